-- The moment of a context that is new is the first one.
use Rattle.std.proofs.Common.{◌≡◌, sym, ap, ◌∙◌, List}
use Rattle.std.specs.Prelude.{◌||◌, true}
use Rattle.es_tree.specs.Fresh.{is_among}
use Rattle.es_tree.specs.Names.{names_of}
use Rattle.es_tree.specs.Tree.{Tree}
use Rattle.es_scope.specs.ContextSymbols.{free_symbol_of}
use Rattle.es_scope.specs.Contexts.{table_of}
use Rattle.es_scope.specs.declared.context.TraverseCtx.{TraverseCtx}
use Rattle.es_semantic.specs.ReferencesOf.{marked_program}
use Rattle.es_semantic.proofs.MarkedProgram.{bare-marked-program}
use Rattle.es_runs.proofs.BareTrees.{names-bare}
use Rattle.es_steps.specs.CoreBridge.{is_written_name}
use Rattle.es_steps.specs.Open.{Pending}
use Rattle.es_traverse.specs.ContextMoments.{bound_names, moment}
use Rattle.es_starts.specs.Contexts.{IsNew}
use Rattle.es_starts.specs.Starts.{IsFirst}
use Rattle.es_starts.proofs.FirstTable.{law_first_of_table_proof}

pub names-kept : (p : Tree) → names_of (marked_program p) ≡ names_of p
names-kept p = sym (names-bare true (marked_program p)) ∙ ap names_of (bare-marked-program p) ∙ names-bare true p

pub first-of-context : {S : Type 0} (p : Tree) (pending : S → List Pending) (ctx : TraverseCtx S) → IsNew p pending ctx → IsFirst p (moment pending ctx)
first-of-context p pending ctx h =
    let t = law_first_of_table_proof p (table_of ctx) h.table in
    record {
      around = h.around;
      lists = h.lists;
      in_use = λ x. ap (λ b. is_written_name x || b) (h.in_use x ∙ ap (λ names. is_among names x) (names-kept p));
      free_symbol = t.count;
      called = λ s e. t.names s;
      steady = t.steady;
      made = ap (bound_names (free_symbol_of ctx)) h.made;
    }
