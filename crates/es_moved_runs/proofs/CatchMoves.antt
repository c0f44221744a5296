-- A step by which a pattern moves out of a catch clause keeps the runs of a program.
use Rattle.std.proofs.Common.{◌≡◌, ℕ, refl, sym, ap, subst, ◌∙◌, List, [], ◌∷◌, ◌++◌}
use Rattle.std.specs.Prelude.{true, not, ◌&&◌, Option, Some, codes}
use Rattle.std.proofs.lemmas.Bool.{and_parts}
use Rattle.std.proofs.lemmas.List.{append-nil}
use Rattle.es_tree.specs.Scopes.{Declared}
use Rattle.es_tree.specs.Tree.{Tree, node, Label, done, ◌then◌, one, statements, Trees, empty, ◌before◌}
use Rattle.es_tree.specs.Words.{Text}
use Rattle.es_tree.specs.declared.ast_type.AstType.TheVariants.{BlockStatement, CatchClause}
use Rattle.es_runs.specs.Core.{name}
use Rattle.es_runs.proofs.Congruence.{nothing_like}
use Rattle.es_steps.specs.Nodes.{block_node, identifier, made}
use Rattle.es_steps.specs.Patterns.{let_statement}
use Rattle.es_steps.specs.Rules.{next_name}
use Rattle.es_steps.specs.Steps.{Ledger, Site, Spot, Whole}
use Rattle.es_steps.specs.Steps.Spot.{at_node}
use Rattle.es_steps.proofs.FormRules.{AtNodes}
use Rattle.es_steps.proofs.Taken.{pending_in, this_in, top_in as top_beside, whole_in}
use Rattle.es_rest_shapes.specs.RestShapes.{is_plain_pattern}
use Rattle.es_pattern_moves.specs.MoveRows.{MoveWalkRow}
use Rattle.es_pattern_moves.specs.MoveRows.MoveWalkRow.{from_arrow, from_catch, from_declaration, from_expression, from_head, from_target, from_value}
use Rattle.es_pattern_moves.specs.PatternMoves.{binds_let}
use Rattle.es_statement_runs.specs.Alike.MoreLike.{same_handles}
use Rattle.es_statement_runs.specs.Helpers.{Supply}
use Rattle.es_statement_runs.specs.Laws.{apart_from, block_of, object_pattern_at}
use Rattle.es_statement_runs.specs.Names.{lexical_in, names_of_all, own_names, var_names}
use Rattle.es_statement_runs.specs.Places.{all_good, avoids, target_taken, value_taken}
use Rattle.es_statement_runs.proofs.Catches.{declared_putter, own_binding}
use Rattle.es_statement_runs.proofs.KindsAlike.{inner}
use Rattle.es_statement_steps.proofs.MadeNames.{fresh_made, made_apart, made_no_cell}
use Rattle.es_statement_steps.proofs.Replacings.{no-vars}
use Rattle.es_rest_runs.proofs.GrownNames.{Apt, parts_of}
use Rattle.es_rest_runs.proofs.QuietSteps.{Before, PlainRule}
use Rattle.es_rest_runs.proofs.Stores.{IsNew, Picked, plain_shape}
use Rattle.es_moved_runs.specs.Laws.{CatchMovesRow, LawCatchMoves, is_from_catch}
use Rattle.es_moved_runs.proofs.ClausesAlike.{clause_alike}
use Rattle.es_moved_runs.proofs.HeldNames.{bad_alone}
use Rattle.es_moved_runs.proofs.MovedSteps.{MovesSo, one_step}
use Rattle.es_moved_runs.proofs.TurnedNames.{Turned}
use Rattle.es_moved_runs.proofs.TurnedNames.Turned.{turned_catch}
use Rattle.es_moved_runs.proofs.TurnedRuns.{MeansSame, made_seen}

-- WHAT THE ROW MAKES
abbrev pub clause : Label → Label → Trees → Label → Trees → Tree
clause m lp ps l bs = node CatchClause m (one (object_pattern_at lp ps) then (one (block_of l bs) then done))

abbrev pub moved_clause : Label → Label → Trees → Label → Trees → Text → Option ℕ → Tree
moved_clause m lp ps l bs x s =
    node CatchClause m (one (identifier (record { name = x; symbol = s })) then (one (block_node (let_statement (object_pattern_at lp ps) (record { name = x; symbol = s }) before block_of l bs before empty)) then done))

pub data CatchMoved (w : Whole) (x : Text) : Tree → Tree → Type 0 where
  catch_moved : (m lp l : Label) (ps bs : Trees) (s : Option ℕ) → IsNew w x → CatchMoved w x (clause m lp ps l bs) (moved_clause m lp ps l bs x s)

abbrev pub SomeCatch : Whole → Tree → Tree → Type 0
SomeCatch w a b = Picked Text (λ x. CatchMoved w x a b)

-- ROWS put nothing into lists
pub walk_nodes : {n : Site} {s s' : Ledger} {x y : Spot} → MoveWalkRow n s x s' y → AtNodes x y
walk_nodes (from_catch m l p bs x b1 b2) = tt
walk_nodes (from_head m l l' p e b x b1 b2 b3) = tt
walk_nodes (from_target m t e b x b1 b2 b3) = tt
walk_nodes (from_declaration m l ps qs ds ts us x b1 b2 b3) = tt
walk_nodes (from_expression m l ps qs ds ts us x b1 b2 b3) = tt
walk_nodes (from_arrow m l ps qs ds ts us x b1 b2) = tt
walk_nodes (from_value m ps e b1 b2 b3) = tt

pub walk_pending : {n : Site} {s s' : Ledger} {x y : Spot} → MoveWalkRow n s x s' y → pending_in s' ≡ pending_in s
walk_pending (from_catch m l p bs x b1 b2) = refl
walk_pending (from_head m l l' p e b x b1 b2 b3) = refl
walk_pending (from_target m t e b x b1 b2 b3) = refl
walk_pending (from_declaration m l ps qs ds ts us x b1 b2 b3) = refl
walk_pending (from_expression m l ps qs ds ts us x b1 b2 b3) = refl
walk_pending (from_arrow m l ps qs ds ts us x b1 b2) = refl
walk_pending (from_value m ps e b1 b2 b3) = refl

pub walk_this : {n : Site} {s s' : Ledger} {x y : Spot} → MoveWalkRow n s x s' y → this_in s' ≡ this_in s
walk_this (from_catch m l p bs x b1 b2) = refl
walk_this (from_head m l l' p e b x b1 b2 b3) = refl
walk_this (from_target m t e b x b1 b2 b3) = refl
walk_this (from_declaration m l ps qs ds ts us x b1 b2 b3) = refl
walk_this (from_expression m l ps qs ds ts us x b1 b2 b3) = refl
walk_this (from_arrow m l ps qs ds ts us x b1 b2) = refl
walk_this (from_value m ps e b1 b2 b3) = refl

pub walk_top : {n : Site} {s s' : Ledger} {x y : Spot} → MoveWalkRow n s x s' y → top_beside s' ≡ top_beside s
walk_top (from_catch m l p bs x b1 b2) = refl
walk_top (from_head m l l' p e b x b1 b2 b3) = refl
walk_top (from_target m t e b x b1 b2 b3) = refl
walk_top (from_declaration m l ps qs ds ts us x b1 b2 b3) = refl
walk_top (from_expression m l ps qs ds ts us x b1 b2 b3) = refl
walk_top (from_arrow m l ps qs ds ts us x b1 b2) = refl
walk_top (from_value m ps e b1 b2 b3) = refl

pub catch_made : {n : Site} {s s' : Ledger} {t u : Tree} (r : MoveWalkRow n s (at_node t) s' (at_node u)) → is_from_catch r ≡ true → SomeCatch (whole_in s) t u
catch_made (from_catch {w = w} m l p bs x moves fresh) so =
    let shape = plain_shape p (and_parts (is_plain_pattern p) (not (binds_let p)) moves).0 in
    subst (λ (p : Tree). SomeCatch w (node CatchClause m (one p then (one (node BlockStatement l (statements bs then done)) then done)))
    (node CatchClause m (one (identifier (next_name w x)) then (one (block_node (let_statement p (next_name w x) before node BlockStatement l (statements bs then done) before empty)) then done)))) (sym shape.same)
    (record { index = x; holds = catch_moved m shape.label l shape.parts bs (Some w.free_symbol) (fresh.free, fresh_made w.in_use _ x fresh) })
catch_made (from_head m l l' p e b x b1 b2 b3) so = absurd (cc so)
catch_made (from_target m t e b x b1 b2 b3) so = absurd (cc so)
catch_made (from_declaration m l ps qs ds ts us x b1 b2 b3) so = absurd (cc so)
catch_made (from_expression m l ps qs ds ts us x b1 b2 b3) so = absurd (cc so)
catch_made (from_arrow m l ps qs ds ts us x b1 b2) so = absurd (cc so)
catch_made (from_value m ps e b1 b2 b3) so = absurd (cc so)

pub catches-rule : PlainRule CatchMovesRow (Before SomeCatch)
catches-rule = record {
  nodes = λ n s s' x y h. walk_nodes h.row.0;
  pending = λ n s s' t u h. walk_pending h.row.0;
  this = λ n s s' t u h. walk_this h.row.0;
  top = λ n s s' t u h. walk_top h.row.0;
  made = λ n s s' t u h. catch_made h.row.0 h.from;
}

-- ITS TWO SIDES

pub catch_new : {w : Whole} {x : Text} {a b : Tree} → CatchMoved w x a b → IsNew w x
catch_new (catch_moved m lp l ps bs s new) = new

pub catch_turn : (w : Whole) (x : Text) (a b : Tree) → CatchMoved w x a b → Turned a b
catch_turn w x _ _ (catch_moved m lp l ps bs s new) = turned_catch m (object_pattern_at lp ps) _ (block_of l bs) _

-- a pattern declares nothing by `var`
pub catch_vars : (w : Whole) (x : Text) (a b : Tree) → CatchMoved w x a b → Apt a → var_names b ≡ var_names a
catch_vars w x _ _ (catch_moved m lp l ps bs s new) apt =
    let pattern : var_names (object_pattern_at lp ps) ≡ [] = no-vars (object_pattern_at lp ps) refl (parts_of CatchClause m (one (object_pattern_at lp ps) then (one (block_of l bs) then done)) apt).0.0.0 in
    let inside = var_names (block_of l bs) ++ [] in
    append-nil (inside ++ []) ∙ append-nil inside ∙ ap (λ ds. ds ++ inside) (sym pattern)

pub catch_means : (u : Supply) (w : Whole) (x : Text) → IsNew w x → MeansSame u x (CatchMoved w x)
catch_means o whole x new t _ _ (catch_moved m lp l ps bs s new') apt av w v same known ls y =
    let P = object_pattern_at lp ps in
    let B = block_of l bs in
    let D : List Declared = own_names CatchClause (one P then (one B then done)) in
    let d = and_parts (all_good (bad_alone x) (names_of_all D)) (avoids (bad_alone x) target_taken P && (avoids (bad_alone x) value_taken B && true)) av in
    let e = and_parts (avoids (bad_alone x) target_taken P) (avoids (bad_alone x) value_taken B && true) d.1 in
    let f = and_parts (avoids (bad_alone x) value_taken B) true e.1 in
    rw (own_binding v x (codes "let"), declared_putter o (inner v (record { name = x; kind = codes "let" } ∷ [])) (codes "let") (name x)) (record {
      core = nothing_like (apart_from x) w v same t.need;
      more = λ _. same_handles (λ z. clause_alike (codes "let") (codes "let") x z (made_apart (codes "Math") x refl new.1) (made_no_cell x new.1) o (made_seen o whole x new) w v same (λ z e. known z refl) lp (made [] []) l ps bs e.0 f.0 D d.0
          (lexical_in (let_statement P (record { name = x; symbol = s }) before B before empty)) (append-nil (D ++ []) ∙ append-nil D));
    })

pub catch-moves : (u : Supply) → MovesSo u CatchMoved
catch-moves u = record { new = λ w x a b h. catch_new h; turn = catch_turn; vars = catch_vars; means = λ w x new. catch_means u w x new }

pub law_catch_moves_proof : LawCatchMoves
law_catch_moves_proof u w s p q class bound step silent silent_after = one_step u CatchMoved (catch-moves u) CatchMovesRow catches-rule w s p q class bound.named step silent silent_after
