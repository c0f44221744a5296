-- Temporaries that are put into lists: nothing else moves, so programs run alike.
use Rattle.std.proofs.Common.{refl, List}
use Rattle.std.specs.Prelude.{ℕ, Bool, true}
use Rattle.std.specs.Prelude.{codes}
use Rattle.es_tree.specs.Scopes.{Declared}
use Rattle.es_tree.specs.Tree.{Tree, node, Fields, done, ◌then◌, Field, missing, one, many, statements, Trees, empty, ◌before◌}
use Rattle.es_tree.specs.Words.{Text}
use Rattle.es_runs.specs.Alike.{bad_names}
use Rattle.es_runs.specs.Runs.{none_hidden}
use Rattle.es_statement_runs.specs.BareVars.{PutField, PutFields, PutIn, PutList, PutTrees}
use Rattle.es_statement_runs.specs.BareVars.PutField.{put_many, put_missing, put_one, put_statements}
use Rattle.es_statement_runs.specs.BareVars.PutFields.{put_done, put_then}
use Rattle.es_statement_runs.specs.BareVars.PutIn.{put_block, put_case, put_node}
use Rattle.es_statement_runs.specs.BareVars.PutList.{grown_var, new_var, put_end, put_statement}
use Rattle.es_statement_runs.specs.BareVars.PutTrees.{put_before, put_empty}
use Rattle.es_statement_runs.specs.Laws.{LawTemporaries, among_names, no_row}
use Rattle.es_statement_runs.specs.Names.{top_in}
use Rattle.es_statement_runs.specs.Places.{Take}
use Rattle.es_statement_runs.proofs.BareVars.{kinds_kept, law_vars_proof}
use Rattle.es_statement_runs.proofs.Moved.{BothMute, Moved, MovedField, MovedFields, MovedList, MovedTrees, Room, list_beside, tops_more}
use Rattle.es_statement_runs.proofs.Moved.Moved.{moved_block, moved_case, moved_node}
use Rattle.es_statement_runs.proofs.Moved.MovedField.{moved_many, moved_missing, moved_one, moved_statements}
use Rattle.es_statement_runs.proofs.Moved.MovedFields.{moved_done, moved_then}
use Rattle.es_statement_runs.proofs.Moved.MovedList.{moved_end, moved_grown, moved_new, moved_statement}
use Rattle.es_statement_runs.proofs.Moved.MovedTrees.{moved_before, moved_empty}
use Rattle.es_statement_runs.proofs.Moved.Room.{open_room}

abbrev no_rows : List Declared → Take → Tree → Tree → Type 0
no_rows ds = no_row

module _ (fresh : Text → Bool) where
  mutual
    put_moved : {r : Room} {ds : List Declared} {t : Take} {a b : Tree} → PutIn fresh a b → Moved fresh no_rows r ds t a b
    put_moved (put_node e i h) = moved_node e i (fields_moved h)
    put_moved (put_block e h) = moved_block e (list_moved h)
    put_moved (put_case e g h) = moved_case e (field_moved g) (list_moved h)

    fields_moved : {r : ℕ → Room} {d : ℕ → List Declared} {c : ℕ → Take} {fs gs : Fields} → PutFields fresh fs gs → MovedFields fresh no_rows r d c fs gs
    fields_moved put_done = moved_done
    fields_moved (put_then h hs) = moved_then (field_moved h) (fields_moved hs)

    field_moved : {r : Room} {ds : List Declared} {t : Take} {f g : Field} → PutField fresh f g → MovedField fresh no_rows r ds t f g
    field_moved put_missing = moved_missing
    field_moved (put_one h) = moved_one (put_moved h)
    field_moved (put_many h) = moved_many (trees_moved h)
    field_moved (put_statements h) = moved_statements (trees_moved h)

    trees_moved : {r : Room} {ds : List Declared} {t : Take} {ts us : Trees} → PutTrees fresh ts us → MovedTrees fresh no_rows r ds t ts us
    trees_moved put_empty = moved_empty
    trees_moved (put_before h hs) = moved_before (put_moved h) (trees_moved hs)

    list_moved : {r : Room} {ds : List Declared} {more : Bool} {ts us : Trees} → PutList fresh ts us → MovedList fresh no_rows r ds more ts us
    list_moved put_end = moved_end
    list_moved (put_statement h hs) = moved_statement (put_moved h) (list_moved hs)
    list_moved (new_var e g hs) = moved_new e g (list_moved hs)
    list_moved (grown_var e i g hs) = moved_grown e i g (list_moved hs)

-- nothing may be put in
module _ (xs : List Text) where
  mutual
    pub put_self : (a : Tree) → PutIn (among_names xs) a a
    put_self (node k l fs) = put_node refl refl (fields_self fs)

    fields_self : (fs : Fields) → PutFields (among_names xs) fs fs
    fields_self done = put_done
    fields_self (f then fs) = put_then (field_self f) (fields_self fs)

    pub field_self : (f : Field) → PutField (among_names xs) f f
    field_self missing = put_missing
    field_self (one a) = put_one (put_self a)
    field_self (many ts) = put_many (trees_self ts)
    field_self (statements ts) = put_statements (trees_self ts)

    trees_self : (ts : Trees) → PutTrees (among_names xs) ts ts
    trees_self empty = put_empty
    trees_self (a before ts) = put_before (put_self a) (trees_self ts)

  pub list_self : (ts : Trees) → PutList (among_names xs) ts ts
  list_self empty = put_end
  list_self (a before ts) = put_statement (put_self a) (list_self ts)

no_mute : (xs : List Text) (ds : List Declared) (t : Take) (a b : Tree) → no_rows ds t a b → BothMute xs a b
no_mute xs ds t a b e = absurd e

pub law_temporaries_proof : LawTemporaries
law_temporaries_proof u xs l ds body after rows nowhere apart silents unsilent math program_names seen =
    let grown : MovedList (among_names xs) no_rows open_room (top_in body) true body after = list_moved (among_names xs) rows in
    law_vars_proof u xs l ds body after (list_beside xs no_rows (no_mute xs) (bad_names (among_names xs) none_hidden) no_rows (λ ds t a b h g. absurd h) true grown nowhere) (kinds_kept (codes "var") xs (tops_more xs no_rows (no_mute xs) grown)) apart silents unsilent math program_names seen
