-- Which expressions are wrapped, and the call of an arrow that each becomes.
use Rattle.std.specs.Prelude.{◌≡◌, ◌&&◌, ℕ, Bool, true, false, not, List, Option}
use Rattle.es_tree.specs.Tree.{Tree}
use Rattle.es_tree.specs.Words.{Text}
use Rattle.es_tree.specs.declared.options.EnvOptions.{EnvOptions}
use Rattle.es_scope.specs.declared.ancestor.Ancestor.{Ancestor}
use Rattle.es_resolution.specs.Seen.{seen}
use Rattle.es_steps.specs.Open.{is_statement_body}
use Rattle.es_steps.specs.Slots.{holds}
use Rattle.es_steps.specs.WrapRule.{called_arrow, is_wrapped_for}
use Rattle.es_traverse.specs.declared.site.Site.{Site}
use Rattle.es_traverse.specs.declared.site.Site.TheVariants.{Slot}
use Rattle.es_visit.specs.declared.hook.Hook.{Hook}
use Rattle.es_visit.specs.declared.hook.Hook.TheVariants.{Expression}
use Rattle.lower_writing.specs.Slots.{is_slot_at}

-- whether it is the hook of an expression, where a slot may stand
abbrev pub is_slot_hook : Hook → Site → Bool
is_slot_hook Expression Slot = true
is_slot_hook h c = false

-- whether an expression with these ancestors is a slot that is to be wrapped
abbrev pub is_to_wrap : EnvOptions → List Ancestor → Tree → Bool
is_to_wrap o up t = is_slot_at up && not (is_statement_body t) && holds (is_wrapped_for o) t

-- whatever scopes bind, what is seen of the call is that of the arrow around what is seen of the expression
abbrev pub IsCallOf : Tree → Tree → Type 0
IsCallOf e call = (names : ℕ → Text → Option ℕ) → seen names call ≡ called_arrow (seen names e)
