-- The moments of a place inside one more ancestor, and back.
use Rattle.std.proofs.Common.{◌≡◌, ◌∙◌, ◌||◌, sym, ap, List, ◌∷◌, drop}
use Rattle.es_steps.specs.CoreBridge.{is_written_name}
use Rattle.es_scope.specs.Contexts.{KeepsNames, around_of, table_of}
use Rattle.es_scope.specs.Tables.{called, is_steady, symbol_count}
use Rattle.es_scope.specs.declared.ancestor.Ancestor.{Ancestor}
use Rattle.es_scope.specs.declared.context.TraverseCtx.{TraverseCtx}
use Rattle.es_steps.specs.Open.{Pending}
use Rattle.es_changes.specs.Moments.{inside_of}
use Rattle.es_traverse.specs.ContextMoments.{bound_names, moment}

module _ {S : Type 0} (pending : S → List Pending) (old new : TraverseCtx S) (x : Ancestor) where
  pub moment_inside : around_of new ≡ x ∷ around_of old → new.state ≡ old.state → new.ast ≡ old.ast → new.options ≡ old.options → table_of new ≡ table_of old → KeepsNames old new → moment pending new ≡ inside_of x (moment pending old)
  moment_inside around state ast options table names = λ i. record {
    in_use = λ y. is_written_name y || names.used y i;
    steady = is_steady (table i);
    free_symbol = symbol_count (table i);
    called = called (table i);
    made = bound_names (symbol_count (table i)) (names.made_is i);
    next = (ast i).next;
    lists = pending (state i);
    around = around i;
    options = options i;
  }

  pub moment_left : {xs : List Ancestor} → around_of old ≡ x ∷ xs → around_of new ≡ drop 1 (around_of old) → new.state ≡ old.state → new.ast ≡ old.ast → new.options ≡ old.options → table_of new ≡ table_of old → KeepsNames old new →
      moment pending old ≡ inside_of x (moment pending new)
  moment_left {xs = xs} here around state ast options table names =
      let left : around_of old ≡ x ∷ around_of new = here ∙ sym (ap (λ ys. x ∷ ys) (around ∙ ap (λ ys. drop 1 ys) here)) in
      λ i. record {
        in_use = λ y. is_written_name y || sym (names.used y) i;
        steady = is_steady (sym table i);
        free_symbol = symbol_count (sym table i);
        called = called (sym table i);
        made = bound_names (symbol_count (sym table i)) (sym names.made_is i);
        next = (sym ast i).next;
        lists = pending (sym state i);
        around = left i;
        options = sym options i;
      }
