-- The laws of programs in which names stand for lists of excluded keys.
use Rattle.std.specs.Prelude.{◌≡◌, ◌≤◌, ◌+◌, ◌*◌, Bool, List, [], None, true, false, codes}
use Rattle.es_tree.specs.Bare.{bare}
use Rattle.es_tree.specs.Constructs.{has_enabled_construct}
use Rattle.es_tree.specs.HasForm.{has_form}
use Rattle.es_tree.specs.StaticRules.{breaks}
use Rattle.es_tree.specs.Tree.{Tree, tree_size}
use Rattle.es_tree.specs.Words.{Text}
use Rattle.es_tree.specs.declared.options.EnvOptions.{EnvOptions}
use Rattle.es_tree.specs.declared.table.Sort.TheVariants.{Program as s-Program}
use Rattle.es_resolution.specs.Laws.{source}
use Rattle.es_module_names.specs.Laws.{SameOutside}
use Rattle.es_steps.specs.Bindings.{Bindings}
use Rattle.es_steps.specs.CoreBridge.{first_whole, names_among}
use Rattle.es_steps.specs.Steps.{Whole}
use Rattle.es_top_imports.specs.Laws.{list_place}
use Rattle.es_excluded_keys.specs.ExcludedKeys.{SharesTo}

-- What is known of a program p in which these names stand for lists of excluded keys, as q.
pub record IsShared (p q : Tree) (names : List Text) : Type 0 where
  -- the program with the symbols of its names; written it is equal to this, but for ids and marks
  pub resolved : Tree
  pub written : bare resolved ≡ bare q
  pub whole : Whole
  pub made : names_among whole.made ≡ names
  -- A name of p has the symbol that it had, and the others are made; each is bound to what looking it up finds, by one scope, and one without a
  -- symbol is unbound;
  pub bindings : Bindings (source p) resolved (first_whole p) whole
  -- and `require` finds nothing at its top where it found nothing before
  pub require : (list_place (source p)).scope (codes "require") ≡ None → (list_place (source q)).scope (codes "require") ≡ None
  -- it is a program, and breaks none of the nineteen static rules
  pub form : has_form s-Program q ≡ true
  pub kept : breaks q ≡ []
  -- to other modules it is what p is
  pub outside : SameOutside p q

-- So it is of a program that has form and breaks no static rule.
abbrev pub LawKeysShared : Type 0
LawKeysShared = (p q : Tree) (names : List Text) → has_form s-Program p ≡ true → breaks p ≡ [] → SharesTo (first_whole p).in_use p q names → IsShared p q names

-- It has no construct that options ask to lower where p has none;
abbrev pub LawNoConstructs : Type 0
LawNoConstructs = (o : EnvOptions) (in_use : Text → Bool) (p q : Tree) (names : List Text) → SharesTo in_use p q names → has_enabled_construct o p ≡ false → has_enabled_construct o q ≡ false

-- and at most half as many nodes more, and one.
abbrev pub LawSharedSize : Type 0
LawSharedSize = (in_use : Text → Bool) (p q : Tree) (names : List Text) → SharesTo in_use p q names → 2 * tree_size q ≤ 3 * tree_size p + 2
