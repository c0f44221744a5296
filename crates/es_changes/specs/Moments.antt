-- What a hook finds beside its node: the names and symbols, what is pending, the ids given so far, and the place.
use Rattle.std.specs.Prelude.{ℕ, List, [], ◌∷◌, Bool, None}
use Rattle.es_tree.specs.Words.{Text}
use Rattle.es_tree.specs.declared.options.EnvOptions.{EnvOptions}
use Rattle.es_scope.specs.declared.ancestor.Ancestor.{Ancestor}
use Rattle.es_resolution.specs.Declarations.{Bound}
use Rattle.es_steps.specs.Open.{Pending, nothing_pending, no_additions}
use Rattle.es_steps.specs.Steps.{Whole, Ledger, ledger}

pub record Moment : Type 0 where
  pub in_use : Text → Bool
  pub steady : ℕ → Bool
  pub free_symbol : ℕ
  pub called : ℕ → Text
  pub made : List Bound
  pub next : ℕ
  -- what is pending for each statement list and each arrow body that is an expression around the place, the innermost first
  pub lists : List Pending
  pub around : List Ancestor
  pub options : EnvOptions

-- WHAT STEPS SEE OF IT

abbrev pub top : List Pending → Pending
top [] = nothing_pending
top (p ∷ ps) = p

abbrev pub below : List Pending → List Pending
below [] = []
below (p ∷ ps) = ps

abbrev pub whole_at : Moment → Whole
whole_at a = record { in_use = a.in_use; steady = a.steady; free_symbol = a.free_symbol; called = a.called; made = a.made }

-- beside a part there is what is pending for the innermost list or body; this is the moment of lowerings that put nothing else by
abbrev pub ledger_with : Pending → Moment → Ledger
ledger_with p a = ledger (whole_at a) p None no_additions

abbrev pub ledger_at : Moment → Ledger
ledger_at a = ledger_with (top a.lists) a

-- the moment at which these lists stand around
abbrev pub with_lists : List Pending → Moment → Moment
with_lists ps a = record a { lists = ps }

-- with a pair of its own
abbrev pub with_pair : Moment → Moment
with_pair a = with_lists (nothing_pending ∷ a.lists) a

-- the moment inside one more ancestor
abbrev pub inside_of : Ancestor → Moment → Moment
inside_of x a = record a { around = x ∷ a.around }
