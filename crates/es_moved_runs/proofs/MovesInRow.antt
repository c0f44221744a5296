-- Steps in a row by which patterns move: each keeps the class, and the runs.
use Rattle.std.proofs.Common.{◌≡◌, inl, inr, refl, sym, ap, subst, ◌∙◌, [], ◌∷◌}
use Rattle.std.specs.Prelude.{Bool, true, false, not, ◌&&◌, ◌||◌, None, codes}
use Rattle.es_tree.specs.Fresh.{is_among}
use Rattle.es_tree.specs.HasForm.{has_form}
use Rattle.es_tree.specs.Names.{names_of}
use Rattle.es_tree.specs.Tree.{Tree, node, Label, Fields, done, ◌then◌, one, kind_of}
use Rattle.es_tree.specs.Walks.{all_nodes}
use Rattle.es_tree.specs.Words.{Text}
use Rattle.es_tree.specs.declared.ast_type.AstType.{AstType}
use Rattle.es_tree.specs.declared.ast_type.AstType.TheVariants.{ArrowFunctionExpression, BlockStatement, CatchClause, Identifier, MetaProperty, ObjectProperty, Program, VariableDeclaration, VariableDeclarator}
use Rattle.es_tree.specs.declared.table.Sort.TheVariants.{Program as s-Program}
use Rattle.es_runs.specs.Runs.{is_declared}
use Rattle.es_resolution.specs.Declarations.{Bound}
use Rattle.es_resolution.proofs.Forms.{form-placed}
use Rattle.es_changes.proofs.StepRows.{steps-trans}
use Rattle.es_steps.specs.AllRules.{AllRules}
use Rattle.es_steps.specs.Laws.{IsWellBound, nothing_beside}
use Rattle.es_steps.specs.CatchPatterns.{CatchRest}
use Rattle.es_steps.specs.LoopHeads.{HeadRest, IsForEach, TargetHead}
use Rattle.es_steps.specs.LoopHeads.IsForEach.{for_in, for_of}
use Rattle.es_steps.specs.Nodes.{declaration_node, declarator}
use Rattle.es_steps.specs.ParameterPatterns.{ParameterRest}
use Rattle.es_steps.specs.Rules.{either_rule}
use Rattle.es_arrow_bodies.specs.ArrowBodies.{BodyRule}
use Rattle.es_arrow_bodies.specs.ArrowBodies.BodyRule.{returns}
use Rattle.es_steps.specs.Open.{Open, finished, no_additions, nothing_pending, opened}
use Rattle.es_steps.specs.Steps.{Ledger, Site, Spot, Step, Steps, Whole, ledger, the_program}
use Rattle.es_steps.specs.Steps.Spot.{at_node}
use Rattle.es_steps.specs.Steps.Steps.{goes, stays}
use Rattle.es_steps.proofs.BridgeInclusion.{all_under}
use Rattle.es_steps.proofs.Laws.{law_steps_proof}
use Rattle.es_steps.proofs.Opened.{finished-opened}
use Rattle.es_steps.proofs.Taken.{pending_in, this_in, top_in as top_beside, whole_in}
use Rattle.es_valid_rests.specs.Laws.{with_rests}
use Rattle.es_valid_rests.specs.RestRules.{OutsidePart, RestPart}
use Rattle.es_valid_rests.proofs.RestPrograms.{law_rest_rules_proof}
use Rattle.es_valid_rests.proofs.RestSteps.{law_rest_form_proof}
use Rattle.es_pattern_moves.specs.MoveRows.{MoveWalkRow, MovesOut}
use Rattle.es_pattern_moves.specs.MoveRows.MoveWalkRow.{from_arrow, from_catch, from_declaration, from_expression, from_head, from_target, from_value}
use Rattle.es_statement_runs.specs.Helpers.{Supply, silent_names}
use Rattle.es_statement_runs.specs.Helpers.Supply.{by_global}
use Rattle.es_statement_runs.specs.Names.{declared_at_top, var_names}
use Rattle.es_statement_runs.specs.Programs.{IsStatementProgram, is_statement_node, names_no_cell, uses_no_helper}
use Rattle.es_statement_runs.proofs.Composing.{law_then_proof}
use Rattle.es_statement_steps.proofs.MadeNames.{made_no_cell}
use Rattle.es_rest_runs.specs.Changing.{Changed, ChangedIn}
use Rattle.es_rest_runs.specs.Quiet.{IsQuiet}
use Rattle.es_rest_runs.proofs.Kept.{nodes_kept}
use Rattle.es_rest_runs.proofs.NoSilence.{no_silent}
use Rattle.es_rest_runs.proofs.QuietSteps.{Before, PlainRule, opened_quiet}
use Rattle.es_rest_runs.proofs.SomeOptions.{some_options}
use Rattle.es_rest_runs.proofs.GrownNames.{Apt}
use Rattle.es_rest_runs.proofs.Stores.{IsNew}
use Rattle.es_rest_runs.proofs.StoredSteps.{law_no_name_excluded_proof}
use Rattle.es_moved_runs.specs.Laws.{LawMovesInRow, MovesOn, MovesRow, is_from_catch, is_from_head}
use Rattle.es_moved_runs.proofs.CatchMoves.{catch-moves, catch_made, walk_nodes, walk_pending, walk_this, walk_top}
use Rattle.es_moved_runs.proofs.HeadMoves.{head-moves, head_made}
use Rattle.es_moved_runs.proofs.MovedKept.{EitherMoved, is_made_kind, lacks_kept, moved_kept, moved_names}
use Rattle.es_moved_runs.proofs.MovedSteps.{MovesSo, SomeMoved, moved_alike}
use Rattle.es_moved_runs.proofs.TurnedNames.{Turned}
use Rattle.es_moved_runs.proofs.TurnedRuns.{MeansSame}

-- BOTH ROWS

news : (u : Supply) (w : Whole) (x : Text) (a b : Tree) → EitherMoved w x a b → IsNew w x
news u w x a b (inl h) = (catch-moves u).new w x a b h
news u w x a b (inr h) = (head-moves u).new w x a b h

turns : (u : Supply) (w : Whole) (x : Text) (a b : Tree) → EitherMoved w x a b → Turned a b
turns u w x a b (inl h) = (catch-moves u).turn w x a b h
turns u w x a b (inr h) = (head-moves u).turn w x a b h

variables : (u : Supply) (w : Whole) (x : Text) (a b : Tree) → EitherMoved w x a b → Apt a → var_names b ≡ var_names a
variables u w x a b (inl h) = (catch-moves u).vars w x a b h
variables u w x a b (inr h) = (head-moves u).vars w x a b h

meant : (u : Supply) (w : Whole) (x : Text) → IsNew w x → MeansSame u x (EitherMoved w x)
meant u w x new t a b (inl h) sound av W V same none ls y = (catch-moves u).means w x new t a b h sound av W V same none ls y
meant u w x new t a b (inr h) sound av W V same none ls y = (head-moves u).means w x new t a b h sound av W V same none ls y

pub either-moves : (u : Supply) → MovesSo u EitherMoved
either-moves u = record { new = news u; turn = turns u; vars = variables u; means = meant u }

either_made : {n : Site} {s s' : Ledger} {t u : Tree} (r : MoveWalkRow n s (at_node t) s' (at_node u)) → MovesOut n s (at_node t) s' (at_node u) → (a b : Bool) → is_from_catch r ≡ a → is_from_head r ≡ b → (a || b) ≡ true → SomeMoved EitherMoved (whole_in s) t u
either_made r out true b e f h = let m = catch_made r e in record { index = m.index; holds = inl m.holds }
either_made r out false true e f h = let m = head_made r out f in record { index = m.index; holds = inr m.holds }
either_made r out false false e f h = absurd (cc h)

pub moves-rule : PlainRule MovesRow (Before (SomeMoved EitherMoved))
moves-rule = record {
  nodes = λ n s s' x y h. walk_nodes h.row.0;
  pending = λ n s s' t u h. walk_pending h.row.0;
  this = λ n s s' t u h. walk_this h.row.0;
  top = λ n s s' t u h. walk_top h.row.0;
  made = λ n s s' t u h. either_made h.row.0 h.row.1 (is_from_catch h.row.0) (is_from_head h.row.0) refl refl h.from;
}

-- AMONG THE RULES of object rests: an arrow gets a body by none of them

abbrev is_arrow : AstType → Bool
is_arrow ArrowFunctionExpression = true
is_arrow k = false

no_body : {n : Site} {s s' : Ledger} {t : Tree} {y : Spot} → is_arrow (kind_of t) ≡ false → BodyRule n s (at_node t) s' y → ⊥
no_body e (returns b) = absurd (cc e)

part_of : {n : Site} {s s' : Ledger} {x y : Spot} (r : MoveWalkRow n s x s' y) → MovesOut n s x s' y → (is_from_catch r || is_from_head r) ≡ true → either_rule CatchRest (either_rule HeadRest (either_rule TargetHead ParameterRest)) n s x s' y
part_of r (inl h) e = h
part_of (from_value m ps v b1 b2 b3) (inr h) e = absurd (cc e)
part_of (from_arrow m l ps qs ds ts us x b1 b2) (inr h) e = absurd (cc e)
part_of (from_declaration m l ps qs ds ts us x b1 b2 b3) (inr h) e = absurd (cc e)
part_of (from_expression m l ps qs ds ts us x b1 b2 b3) (inr h) e = absurd (cc e)
part_of (from_target m t v b x b1 b2 b3) (inr h) e = absurd (cc e)
part_of (from_catch m l p bs x b1 b2) (inr h) e = absurd (no_body refl h)
part_of (from_head m l j p v b x for_in b2 b3) (inr h) e = absurd (no_body refl h)
part_of (from_head m l j p v b x for_of b2 b3) (inr h) e = absurd (no_body refl h)

among_form : (n : Site) (s : Ledger) (x : Spot) (s' : Ledger) (y : Spot) → MovesRow n s x s' y → with_rests RestPart some_options n s x s' y
among_form n s x s' y h = inr (inr (inr (part_of h.row.0 h.row.1 h.from)))

among_rules : (n : Site) (s : Ledger) (x : Spot) (s' : Ledger) (y : Spot) → MovesRow n s x s' y → with_rests OutsidePart some_options n s x s' y
among_rules n s x s' y h = inr (inr (inr (part_of h.row.0 h.row.1 h.from)))

among_all : (n : Site) (s : Ledger) (x : Spot) (s' : Ledger) (y : Spot) → MovesRow n s x s' y → AllRules some_options n s x s' y
among_all n s x s' y h = inr (inr (inr (inl (inr (inr (inr (part_of h.row.0 h.row.1 h.from)))))))

-- TESTS of every node, and names

statement_still : {A : Tree → Tree → Type 0} (k : AstType) (l : Label) (fs gs : Fields) → ChangedIn A fs gs → is_statement_node k l fs ≡ true → is_statement_node k l gs ≡ true
statement_still ObjectProperty l fs gs h t = t
statement_still MetaProperty l fs gs h t = t
statement_still _ l fs gs h t = t

cell_still : {A : Tree → Tree → Type 0} (k : AstType) (l : Label) (fs gs : Fields) → ChangedIn A fs gs → names_no_cell k l fs ≡ true → names_no_cell k l gs ≡ true
cell_still Identifier l fs gs h t = t
cell_still _ l fs gs h t = refl

made_statement : (k : AstType) (l : Label) (fs : Fields) → is_made_kind k ≡ true → is_statement_node k l fs ≡ true
made_statement BlockStatement l fs h = refl
made_statement VariableDeclaration l fs h = refl
made_statement VariableDeclarator l fs h = refl
made_statement CatchClause l fs h = refl
made_statement _ l fs h = absurd (cc h)

loop_statement : (k : AstType) (m : Label) (kind : Text) (b : Bound) (e c : Tree) → IsForEach k → is_statement_node k m (one (declaration_node kind (declarator b ∷ [])) then (one e then (one c then done))) ≡ true
loop_statement _ m kind b e c for_in = refl
loop_statement _ m kind b e c for_of = refl

loop_cell : (k : AstType) (m : Label) (kind : Text) (b : Bound) (e c : Tree) → IsForEach k → names_no_cell k m (one (declaration_node kind (declarator b ∷ [])) then (one e then (one c then done))) ≡ true
loop_cell _ m kind b e c for_in = refl
loop_cell _ m kind b e c for_of = refl

made_cell : (k : AstType) (l : Label) (fs : Fields) → is_made_kind k ≡ true → names_no_cell k l fs ≡ true
made_cell Identifier l fs h = absurd (cc h)
made_cell _ l fs h = refl

module _ (w : Whole) where
  pub without_functions_kept : {a b : Tree} → Changed (SomeMoved EitherMoved w) a b → all_nodes is_statement_node a ≡ true → all_nodes is_statement_node b ≡ true
  without_functions_kept h t = nodes_kept (SomeMoved EitherMoved w) is_statement_node (λ a b g. moved_kept is_statement_node made_statement loop_statement (λ b e. refl) w g.index a b g.holds) statement_still h t

  pub names_kept : {a b : Tree} → Changed (SomeMoved EitherMoved w) a b → all_nodes names_no_cell a ≡ true → all_nodes names_no_cell b ≡ true
  names_kept h t = nodes_kept (SomeMoved EitherMoved w) names_no_cell (λ a b g. moved_kept names_no_cell made_cell loop_cell (λ b e. ap (λ c. not c && true) (made_no_cell b.name e)) w g.index a b g.holds) cell_still h t

  not_so : (b : Bool) → not b ≡ true → b ≡ false
  not_so true h = absurd (cc h)
  not_so false h = refl

  pub helpers_kept : {a b : Tree} → Changed (SomeMoved EitherMoved w) a b → uses_no_helper by_global a ≡ true → uses_no_helper by_global b ≡ true
  helpers_kept {a = a} h t = ap not (lacks_kept (codes "babelHelpers") (SomeMoved EitherMoved w) (λ a b g. moved_names (codes "babelHelpers") refl w g.index a b g.holds) h true (not_so (is_among (names_of a) (codes "babelHelpers")) t))

-- STEPS IN A ROW

is_one : (t : Tree) → has_form s-Program t ≡ true → kind_of t ≡ Program
is_one (node k l fs) h = (form-placed (node k l fs) h).0

unsilent : (t : Tree) → IsStatementProgram t → uses_no_helper by_global t ≡ true → silent_names by_global t ≡ []
unsilent t class none = no_silent t (law_no_name_excluded_proof t class none)

module _ (p : Tree) (w : Whole) (class : IsStatementProgram p) (bound : IsWellBound w p) where
  -- what is known after some of them
  pub record Now (s : Ledger) (t : Open) : Type 0 where
    pub steps : Steps (Step MovesRow the_program) (nothing_beside w) (opened p) s t
    pub beside : s ≡ nothing_beside (whole_in s)
    pub quiet : IsQuiet t
    pub good : MovesOn p (whole_in s) (finished t)
    pub declared : (z : Text) → is_declared (declared_at_top p) z ≡ true → is_declared (declared_at_top (finished t)) z ≡ true

  none_beside : (s : Ledger) → pending_in s ≡ nothing_pending → this_in s ≡ None → top_beside s ≡ no_additions → s ≡ nothing_beside (whole_in s)
  none_beside (ledger w p x a) e f g = λ i. ledger w (e i) (f i) (g i)

  pub onward : {s s' : Ledger} {t u : Open} → Now s t → Step MovesRow the_program s t s' u → Now s' u
  onward {s = s} {s' = s'} {t = t} {u = u} now step =
      let alike = moved_alike by_global EitherMoved (either-moves by_global) MovesRow moves-rule s s' t u now.good.class now.good.bound.named step now.quiet (unsilent (finished t) now.good.class now.good.helpers) in
      let beside = none_beside s' (alike.left.pending ∙ ap pending_in now.beside) (alike.left.this ∙ ap this_in now.beside) (alike.left.top ∙ ap top_beside now.beside) in
      let steps : Steps (Step MovesRow the_program) (nothing_beside w) (opened p) s' u = steps-trans now.steps (goes step stays) in
      let led = subst (λ (z : Ledger). Steps (Step MovesRow the_program) (nothing_beside w) (opened p) z u) beside steps in
      let helpers = helpers_kept (whole_in s) alike.left.changed now.good.helpers in
      let after : IsStatementProgram (finished u) = record {
        form = law_rest_form_proof some_options p w (whole_in s') u class.form (all_under MovesRow (with_rests RestPart some_options) among_form led);
        rules = law_rest_rules_proof some_options p w (whole_in s') u class.form class.rules bound (all_under MovesRow (with_rests OutsidePart some_options) among_rules led);
        without_functions = without_functions_kept (whole_in s) alike.left.changed now.good.class.without_functions;
        names = names_kept (whole_in s) alike.left.changed now.good.class.names;
      } in
      let silent = unsilent (finished u) after helpers in
      record {
        steps = steps;
        beside = beside;
        quiet = alike.left.quiet;
        good = record {
          runs = law_then_proof by_global false p (finished t) (finished u) now.good.runs (alike.runs silent) now.declared;
          class = after;
          bound = law_steps_proof some_options p w (whole_in s') u (is_one p class.form) bound (all_under MovesRow (AllRules some_options) among_all led);
          helpers = helpers;
        };
        declared = λ z e. alike.declared silent z (now.declared z e);
      }

  in_row : {s s' : Ledger} {t u : Open} → Now s t → Steps (Step MovesRow the_program) s t s' u → Now s' u
  in_row now stays = now
  in_row now (goes step rest) = in_row (onward now step) rest

  pub first : uses_no_helper by_global p ≡ true → Now (nothing_beside w) (opened p)
  first none = record {
    steps = stays;
    beside = refl;
    quiet = opened_quiet p;
    good = subst (λ (t : Tree). MovesOn p w t) (sym (finished-opened p)) (record {
      runs = λ n this moves assumed t ms inside. record { outcomes = refl; questions = refl; final_cells = λ y e i. refl };
      class = class;
      bound = bound;
      helpers = none;
    });
    declared = λ z e. subst (λ (t : Tree). is_declared (declared_at_top t) z ≡ true) (sym (finished-opened p)) e;
  }

pub law_moves_in_row_proof : LawMovesInRow
law_moves_in_row_proof w w' p q class bound none steps = (in_row p w class bound (first p w class bound none) steps).good
