-- A fresh name that is bound where it stands, as a node.
use Rattle.std.proofs.Common.{◌≡◌, ◌∙◌, ◌||◌, ℕ, zero, suc, Bool, true, false, ap, refl}
use Rattle.std.specs.Prelude.{Some}
use Rattle.es_tree.specs.Fresh.{IsFreshName, candidate}
use Rattle.es_tree.specs.Tree.{Tree}
use Rattle.es_tree.specs.Words.{Text}
use Rattle.es_scope.specs.Contexts.{Binds, MakesName, Refers, table_of, uses_of}
use Rattle.es_scope.specs.Tables.{symbol_count}
use Rattle.es_scope.specs.declared.context.TraverseCtx.{TraverseCtx}
use Rattle.es_scope.specs.declared.context_names.BoundIdentifier.{BoundIdentifier}
use Rattle.es_scope.specs.declared.flags.SymbolFlags.{SymbolFlags}
use Rattle.es_steps.specs.CoreBridge.{is_written_name}
use Rattle.es_steps.specs.Nodes.{identifier}
use Rattle.lower_temporaries.specs.Declarators.{bound_as}
use Rattle.lower_temporaries.specs.SeenTrees.{IsSeenAs}
use Rattle.lower_temporaries.specs.Takings.{writing}
use Rattle.lower_temporaries.specs.Temporaries.{TakesBoundName}
use Rattle.lower_temporaries.specs.declared.state.TransformState.{TransformState}
use Rattle.lower_temporaries.proofs.Takings.{takes-bound}

-- a candidate begins with an underscore, and so it is none of the names that rules write of themselves
no-candidate : (base : Text) (n : ℕ) → is_written_name (candidate base n) ≡ false
no-candidate base zero = refl
no-candidate base (suc n) = refl

or-true : (b : Bool) → (b || true) ≡ true
or-true true = refl
or-true false = refl

still-fresh : (in_use : Text → Bool) (base x : Text) → IsFreshName in_use base x → IsFreshName (λ y. is_written_name y || in_use y) base x
still-fresh in_use base x f = record {
  number = f.number;
  name = f.name;
  free = ap (λ b. b || in_use x) (ap is_written_name f.name ∙ no-candidate base f.number) ∙ f.free;
  first = λ m l. ap (λ b. is_written_name (candidate base m) || b) (f.first m l) ∙ or-true (is_written_name (candidate base m));
}

-- it was made, bound and then written
pub taken-bound-name : (base : Text) (old mid new : TraverseCtx TransformState) (b : BoundIdentifier) (scope : ℕ) (flags : SymbolFlags) (t : Tree) → IsFreshName (uses_of old) base (bound_as b).name → MakesName old mid (bound_as b).name → Binds old mid scope (bound_as b).name flags →
    b.symbol_id.0 ≡ symbol_count (table_of old) → IsSeenAs t (identifier (bound_as b)) → Refers mid new (Some b.symbol_id.0) writing → TakesBoundName base scope flags old new t
taken-bound-name base old mid new b scope flags t fresh makes binds symbol is refers = record {
  name = bound_as b;
  next = record { fresh = still-fresh (uses_of old) base (bound_as b).name fresh; symbol = ap Some symbol };
  stands = is;
  takes = takes-bound old mid new b scope flags makes binds symbol refers;
  between = mid;
  binds = binds;
  refers = refers;
}
