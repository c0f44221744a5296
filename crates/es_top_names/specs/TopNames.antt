-- What steps of the lowerings leave as it is at the top of a program: whether it is a module, and that its scope doesn't bind `require`.
use Rattle.std.specs.Prelude.{◌≡◌, List, [], true, false, None, codes}
use Rattle.es_tree.specs.HasForm.{has_form}
use Rattle.es_tree.specs.StaticRules.{breaks}
use Rattle.es_tree.specs.Tree.{Tree}
use Rattle.es_tree.specs.Words.{Text}
use Rattle.es_tree.specs.declared.options.EnvOptions.{EnvOptions}
use Rattle.es_tree.specs.declared.table.Sort.TheVariants.{Program as s-Program}
use Rattle.es_resolution.specs.Laws.{source}
use Rattle.es_helper_calls.specs.Importing.{binds_require, is_module}
use Rattle.es_lowered.specs.Lowered.{IsLowered}
use Rattle.es_top_imports.specs.Laws.{list_place}

-- A program that has form and breaks no static rule and what the lowerings make of it are both modules, or both scripts.
abbrev pub LawSameSort : Type 0
LawSameSort = (o : EnvOptions) (p q : Tree) (names : List Text) → has_form s-Program p ≡ true → breaks p ≡ [] → IsLowered o p q names → is_module q ≡ is_module p

-- Where it is a script whose own scope binds no `require`, looking that name up from the list of what they make of it finds nothing.
abbrev pub LawRequireFree : Type 0
LawRequireFree = (o : EnvOptions) (p q : Tree) (names : List Text) → has_form s-Program p ≡ true → breaks p ≡ [] → IsLowered o p q names → binds_require p ≡ false → is_module q ≡ false → (list_place (source q)).scope (codes "require") ≡ None
