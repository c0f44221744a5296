-- Programs whose patterns move by the rows alone: each step of a pattern that moves is one of the rows, and leaves such a program.
use Rattle.std.proofs.Common.{◌≡◌, ℕ, refl, ap, subst, ◌∙◌, [], ◌∷◌}
use Rattle.std.specs.Prelude.{Bool, true, false, not, ◌&&◌, ◌||◌, Option, None}
use Rattle.std.proofs.lemmas.Bool.{and_parts}
use Rattle.es_tree.specs.Names.{first_text}
use Rattle.es_tree.specs.RestTargets.{is_rest_target}
use Rattle.es_tree.specs.Tree.{Tree, node, Label, Fields, done, ◌then◌, missing, one, many, statements, Trees, kind_of}
use Rattle.es_tree.specs.Walks.{all_in_field, all_in_fields, all_in_trees, all_nodes}
use Rattle.es_tree.specs.Words.{Text}
use Rattle.es_tree.specs.declared.ast_type.AstType.{AstType}
use Rattle.es_tree.specs.declared.ast_type.AstType.TheVariants.{ArrowFunctionExpression, BlockStatement, CatchClause, ForInStatement, ForOfStatement, FunctionDeclaration, FunctionExpression, ObjectTarget, VariableDeclaration, VariableDeclarator}
use Rattle.es_resolution.specs.Declarations.{Bound}
use Rattle.es_steps.specs.LoopHeads.{IsForEach}
use Rattle.es_steps.specs.LoopHeads.IsForEach.{for_in, for_of}
use Rattle.es_steps.specs.Nodes.{declaration_node, declarator}
use Rattle.es_steps.specs.Open.{Additions, Open, OpenField, OpenFields, OpenTrees, Pending, finished, finished_field, finished_fields, finished_trees, no_additions, nothing_pending, whole_list, written_body}
use Rattle.es_steps.specs.Steps.{FieldStep, FieldsStep, Ledger, Site, Spot, Step, TreesStep, Whole}
use Rattle.es_steps.specs.Steps.Spot.{at_beside, at_body, at_list, at_node}
use Rattle.es_steps.specs.Steps.Step.{acts, inside}
use Rattle.es_steps.specs.Steps.FieldsStep.{in_first, in_later}
use Rattle.es_steps.specs.Steps.FieldStep.{acts_on_body, acts_on_list, in_body, in_child, in_children, in_list, in_program, in_target}
use Rattle.es_steps.specs.Steps.TreesStep.{acts_on_flanked, after_flanked, flanks, in_flanked, in_head, in_tail}
use Rattle.es_steps.proofs.FormRules.{AtNodes}
use Rattle.es_steps.proofs.Opened.{finished-opened, written-none}
use Rattle.es_rest_shapes.specs.RestShapes.{is_plain_pattern}
use Rattle.es_pattern_moves.specs.MoveRows.{MoveRow, MoveWalkRow}
use Rattle.es_pattern_moves.specs.MoveRows.MoveWalkRow.{from_arrow, from_catch, from_declaration, from_expression, from_head, from_target, from_value}
use Rattle.es_pattern_moves.specs.PatternMoves.{is_var, meets}
use Rattle.es_statement_runs.specs.Helpers.{Supply}
use Rattle.es_statement_steps.proofs.Below.{Below}
use Rattle.es_statement_steps.proofs.Stands.{is_inner}
use Rattle.es_rest_runs.specs.Changing.{Changed, ChangedIn}
use Rattle.es_rest_runs.specs.Changing.Changed.{below, here}
use Rattle.es_rest_runs.specs.Changing.ChangedBy.{many_of, one_of, statements_of}
use Rattle.es_rest_runs.specs.Changing.ChangedIn.{first_of, later_of}
use Rattle.es_rest_runs.specs.Quiet.{AreQuietFields, AreQuietTrees, IsQuiet, IsQuietField}
use Rattle.es_rest_runs.proofs.GrownNames.{Apt, none_inside}
use Rattle.es_moved_runs.specs.Laws.{MovesRow, binds_none_asked, head_moves_so, is_block, is_from_catch, is_from_head, is_let_or_const, loop_moves_so, moves_so}
use Rattle.es_moved_runs.proofs.CatchMoves.{walk_nodes}
use Rattle.es_moved_runs.proofs.MovedKept.{EitherMoved, apt_kept, is_made_kind, moved_kept}
use Rattle.es_moved_runs.proofs.MovedSteps.{MovesSo, SomeMoved}
use Rattle.es_moved_runs.proofs.TurnedNames.{Turned, apt_parts, declaration_still, turned_inner}
use Rattle.es_moved_runs.proofs.TurnedNames.Turned.{turned_catch, turned_in, turned_of}

-- A STEP where a test of every node says more of the rule

module _ (Q R : Site → Ledger → Spot → Ledger → Spot → Type 0) (nodes : (n : Site) (s s' : Ledger) (x y : Spot) → Q n s x s' y → AtNodes x y) (c : AstType → Label → Fields → Bool)
    (better : (n : Site) (s s' : Ledger) (t u : Tree) → Q n s (at_node t) s' (at_node u) → all_nodes c t ≡ true → R n s (at_node t) s' (at_node u)) where
  listed_known : (p : Pending) (x : Option Bound) (a : Additions) → p ≡ nothing_pending → x ≡ None → a ≡ no_additions → (ts : Trees) → all_in_trees c (whole_list p x a ts) ≡ true → all_in_trees c ts ≡ true
  listed_known p x a e f g ts h =
      subst (λ xs. all_in_trees c xs ≡ true) (written-none ts)
      (subst (λ a. all_in_trees c (whole_list nothing_pending None a ts) ≡ true) g
      (subst (λ x. all_in_trees c (whole_list nothing_pending x a ts) ≡ true) f
      (subst (λ p. all_in_trees c (whole_list p x a ts) ≡ true) e h)))

  mutual
    pub sharpened : {n : Site} {s s' : Ledger} {t u : Open} → Step Q n s t s' u → IsQuiet t → all_nodes c (finished t) ≡ true → Step R n s t s' u
    sharpened (acts {n = n} {s = s} {s' = s'} t u h) q k = acts t u (better n s s' t u h (subst (λ x. all_nodes c x ≡ true) (finished-opened t) k))
    sharpened (inside {k = j} {l = l} {fs = fs} h) q k = inside (sharpened_in h q (and_parts (c j l (finished_fields fs)) (all_in_fields c (finished_fields fs)) k).1)

    sharpened_in : {d : ℕ → Site} {s s' : Ledger} {fs gs : OpenFields} → FieldsStep Q d s fs s' gs → AreQuietFields fs → all_in_fields c (finished_fields fs) ≡ true → FieldsStep R d s fs s' gs
    sharpened_in (in_first {f = f} {fs = fs} h) q k = in_first (sharpened_by h q.0 (and_parts (all_in_field c (finished_field f)) (all_in_fields c (finished_fields fs)) k).0)
    sharpened_in (in_later {f = f} {fs = fs} h) q k = in_later (sharpened_in h q.1 (and_parts (all_in_field c (finished_field f)) (all_in_fields c (finished_fields fs)) k).1)

    sharpened_by : {n : Site} {s s' : Ledger} {f g : OpenField} → FieldStep Q n s f s' g → IsQuietField f → all_in_field c (finished_field f) ≡ true → FieldStep R n s f s' g
    sharpened_by (in_child h) q k = in_child (sharpened h q k)
    sharpened_by (in_children h) q k = in_children (sharpened_all h q k)
    sharpened_by (in_body {p = p} {t = t} e y y' h) q k = in_body e y y' (sharpened h q.1 (subst (λ p. all_nodes c (written_body p (finished t)) ≡ true) q.0 k))
    sharpened_by (in_list {p = p} {y = y} {b = b} {ts = ts} e e' h) q k = in_list e e' (sharpened_all h q.3 (listed_known p y b q.0 q.1 q.2 (finished_trees ts) k))
    sharpened_by (in_target {p = p} {y = y} {b = b} {ts = ts} e h) q k = in_target e (sharpened_all h q.3 (listed_known p y b q.0 q.1 q.2 (finished_trees ts) k))
    sharpened_by (in_program {p = p} {y = y} {b = b} {ts = ts} e h) q k = in_program e (sharpened_all h q.3 (listed_known p y b q.0 q.1 q.2 (finished_trees ts) k))
    sharpened_by (acts_on_list {n = n} {s = s} {s' = s'} {p = p} {q = r} {x = x} {y = y} {a = a} {b = b} ts us h) q k = absurd (nodes n s s' (at_list p x a ts) (at_list r y b us) h)
    sharpened_by (acts_on_body {n = n} {s = s} {s' = s'} {p = p} t u h) q k = absurd (nodes n s s' (at_body p t) (at_node u) h)

    sharpened_all : {n : Site} {s s' : Ledger} {ts us : OpenTrees} → TreesStep Q n s ts s' us → AreQuietTrees ts → all_in_trees c (finished_trees ts) ≡ true → TreesStep R n s ts s' us
    sharpened_all (in_head {t = t} {ts = ts} h) q k = in_head (sharpened h q.0 (and_parts (all_nodes c (finished t)) (all_in_trees c (finished_trees ts)) k).0)
    sharpened_all (in_tail {t = t} {ts = ts} h) q k = in_tail (sharpened_all h q.1 (and_parts (all_nodes c (finished t)) (all_in_trees c (finished_trees ts)) k).1)
    sharpened_all (in_flanked h) q k = absurd q
    sharpened_all (after_flanked h) q k = absurd q
    sharpened_all (flanks {n = n} {s = s} {s' = s'} {bs = bs} {cs = cs} t u h) q k = absurd (nodes n s s' (at_node t) (at_beside bs u cs) h)
    sharpened_all (acts_on_flanked t us h) q k = absurd q

-- THE ROWS, where patterns move so

own_so : (k : AstType) (l : Label) (fs : Fields) → all_nodes moves_so (node k l fs) ≡ true → moves_so k l fs ≡ true
own_so k l fs h = (and_parts (moves_so k l fs) (all_in_fields moves_so fs) h).0

loop_so : (k : AstType) (m : Label) (fs : Fields) → IsForEach k → moves_so k m fs ≡ true → loop_moves_so fs ≡ true
loop_so _ m fs for_in h = h
loop_so _ m fs for_of h = h

implied : (a b : Bool) → (not a || b) ≡ true → a ≡ true → b ≡ true
implied true b h e = h
implied false b h e = absurd (cc e)

no_target : (block : Bool) (t : Tree) → is_rest_target (one t) ≡ true → head_moves_so block t ≡ true → ⊥
no_target block (node VariableDeclaration l fs) h g = absurd (cc h)
no_target block (node k l fs) h g = neither (is_rest_target (one (node k l fs))) h g
  where
    neither : (a : Bool) → a ≡ true → not a ≡ true → ⊥
    neither true h g = absurd (cc g)
    neither false h g = absurd (cc h)

from_so : {n : Site} {s s' : Ledger} {t u : Tree} (r : MoveWalkRow n s (at_node t) s' (at_node u)) → all_nodes moves_so t ≡ true → (is_from_catch r || is_from_head r) ≡ true
from_so (from_catch m l p bs x b1 b2) h = refl
from_so (from_head {k = k} m l j p e b x each test fresh) h =
    implied (is_plain_pattern p) (is_let_or_const (first_text l.texts) && (is_block b && binds_none_asked p)) (loop_so k m _ each (own_so k m _ h)) (and_parts (is_plain_pattern p) (is_var l || not (meets p e)) test).0
from_so (from_target {k = k} m t e b x each rest fresh) h = absurd (no_target (is_block b) t rest (loop_so k m _ each (own_so k m _ h)))
from_so (from_declaration m l ps qs ds ts us x b1 b2 b3) h = absurd (cc h)
from_so (from_expression m l ps qs ds ts us x b1 b2 b3) h = absurd (cc h)
from_so (from_arrow m l ps qs ds ts us x b1 b2) h = absurd (cc h)
from_so (from_value m ps e b1 b2 b3) h = absurd (cc h)

pub step_so : {n : Site} {s s' : Ledger} {t u : Open} → Step MoveRow n s t s' u → IsQuiet t → all_nodes moves_so (finished t) ≡ true → Step MovesRow n s t s' u
step_so = sharpened MoveRow MovesRow (λ n s s' x y h. walk_nodes h.0) moves_so (λ n s s' t u h k. record { row = h; from = from_so h.0 k })

-- AND WHAT THEY LEAVE

module _ (u : Supply) (so : MovesSo u EitherMoved) (w : Whole) where
  abbrev A : Tree → Tree → Type 0
  A = SomeMoved EitherMoved w

  turn : (a b : Tree) → A a b → Turned a b
  turn a b h = so.turn w h.index a b h.holds

  made_so : (k : AstType) (l : Label) (fs : Fields) → is_made_kind k ≡ true → moves_so k l fs ≡ true
  made_so BlockStatement l fs h = refl
  made_so VariableDeclaration l fs h = refl
  made_so VariableDeclarator l fs h = refl
  made_so CatchClause l fs h = refl
  made_so _ l fs h = absurd (cc h)

  loops_so : (k : AstType) (m : Label) (kind : Text) (b : Bound) (e c : Tree) → IsForEach k → moves_so k m (one (declaration_node kind (declarator b ∷ [])) then (one e then (one c then done))) ≡ true
  loops_so _ m kind b e c for_in = refl
  loops_so _ m kind b e c for_of = refl

  turned_head : (block : Bool) {a b : Tree} → Turned a b → head_moves_so block b ≡ true
  turned_head block (turned_catch m p x b c) = refl
  turned_head block (turned_in m h g e b c) = refl
  turned_head block (turned_of m h g e b c) = refl

  turned_block : {a b : Tree} → Turned a b → is_block b ≡ is_block a
  turned_block (turned_catch m p x b c) = refl
  turned_block (turned_in m h g e b c) = refl
  turned_block (turned_of m h g e b c) = refl

  fields_block : {fs gs : Fields} (l : Label) → ChangedIn A fs gs → is_block (node BlockStatement l gs) ≡ is_block (node BlockStatement l fs)
  fields_block l (first_of {fs = done} (one_of h)) = refl
  fields_block l (first_of {fs = done} (many_of h)) = refl
  fields_block l (first_of {fs = done} (statements_of h)) = refl
  fields_block l (first_of {fs = g then fs} (one_of h)) = refl
  fields_block l (first_of {fs = g then fs} (many_of h)) = refl
  fields_block l (first_of {fs = g then fs} (statements_of h)) = refl
  fields_block l (later_of {f = missing} h) = refl
  fields_block l (later_of {f = one t} h) = refl
  fields_block l (later_of {f = many ts} h) = refl
  fields_block l (later_of {f = statements ts} (first_of h)) = refl
  fields_block l (later_of {f = statements ts} (later_of h)) = refl

  block_same : {a b : Tree} → Changed A a b → is_block b ≡ is_block a
  block_same (here {a = a} {b = b} h) = turned_block (turn a b h)
  block_same (below {k = BlockStatement} {l = l} h) = fields_block l h
  block_same (below h) = refl

  outer : (a b : Tree) → A a b → is_inner (kind_of a) ≡ true → ⊥
  outer a b g = turned_inner (turn a b g)

  head_still : (block : Bool) {a b : Tree} → Changed A a b → Apt a → head_moves_so block b ≡ true
  head_still block (here {a = a} {b = b} h) apt = turned_head block (turn a b h)
  head_still block (below {k = VariableDeclaration} {l = l} h) apt = absurd (declaration_still A turn (λ a b g. so.vars w g.index a b g.holds) l h apt)
  head_still block (below {k = ObjectTarget} {l = l} h) apt = absurd (none_inside A outer (below {k = ObjectTarget} {l = l} h) apt refl)
  head_still block (below h) apt = refl

  head_as : (t : Tree) (a b : Bool) → b ≡ a → head_moves_so a t ≡ true → head_moves_so b t ≡ true
  head_as t a b e h = ap (λ c. head_moves_so c t) e ∙ h

  loop_still : {fs gs : Fields} → ChangedIn A fs gs → Below (λ i. Apt) fs → loop_moves_so fs ≡ true → loop_moves_so gs ≡ true
  loop_still (first_of {fs = one e then (one b then done)} (one_of h)) p t = head_still (is_block b) h p.0
  loop_still (first_of {fs = one e then (one b then (f then fs))} (one_of h)) p t = refl
  loop_still (first_of {fs = one e then (missing then fs)} (one_of h)) p t = refl
  loop_still (first_of {fs = one e then (many ts then fs)} (one_of h)) p t = refl
  loop_still (first_of {fs = one e then (statements ts then fs)} (one_of h)) p t = refl
  loop_still (first_of {fs = one e then done} (one_of h)) p t = refl
  loop_still (first_of {fs = missing then fs} (one_of h)) p t = refl
  loop_still (first_of {fs = many ts then fs} (one_of h)) p t = refl
  loop_still (first_of {fs = statements ts then fs} (one_of h)) p t = refl
  loop_still (first_of {fs = done} (one_of h)) p t = refl
  loop_still (first_of (many_of h)) p t = refl
  loop_still (first_of (statements_of h)) p t = refl
  loop_still (later_of {f = missing} h) p t = refl
  loop_still (later_of {f = many ts} h) p t = refl
  loop_still (later_of {f = statements ts} h) p t = refl
  loop_still (later_of {f = one a} (first_of {fs = one b then done} (one_of h))) p t = t
  loop_still (later_of {f = one a} (first_of {fs = one b then (f then fs)} (one_of h))) p t = refl
  loop_still (later_of {f = one a} (first_of {fs = missing then fs} (one_of h))) p t = refl
  loop_still (later_of {f = one a} (first_of {fs = many ts then fs} (one_of h))) p t = refl
  loop_still (later_of {f = one a} (first_of {fs = statements ts then fs} (one_of h))) p t = refl
  loop_still (later_of {f = one a} (first_of {fs = done} (one_of h))) p t = refl
  loop_still (later_of {f = one a} (first_of (many_of h))) p t = refl
  loop_still (later_of {f = one a} (first_of (statements_of h))) p t = refl
  loop_still (later_of {f = one a} (later_of {f = missing} h)) p t = refl
  loop_still (later_of {f = one a} (later_of {f = many ts} h)) p t = refl
  loop_still (later_of {f = one a} (later_of {f = statements ts} h)) p t = refl
  loop_still (later_of {f = one a} (later_of {f = one e} (first_of {fs = done} (one_of {a = b} {b = c} h)))) p t = head_as a (is_block b) (is_block c) (block_same h) t
  loop_still (later_of {f = one a} (later_of {f = one e} (first_of {fs = f then fs} (one_of h)))) p t = refl
  loop_still (later_of {f = one a} (later_of {f = one e} (first_of (many_of h)))) p t = refl
  loop_still (later_of {f = one a} (later_of {f = one e} (first_of (statements_of h)))) p t = refl
  loop_still (later_of {f = one a} (later_of {f = one e} (later_of {f = missing} h))) p t = refl
  loop_still (later_of {f = one a} (later_of {f = one e} (later_of {f = many ts} h))) p t = refl
  loop_still (later_of {f = one a} (later_of {f = one e} (later_of {f = statements ts} h))) p t = refl
  loop_still (later_of {f = one a} (later_of {f = one e} (later_of {f = one b} (first_of h)))) p t = refl
  loop_still (later_of {f = one a} (later_of {f = one e} (later_of {f = one b} (later_of h)))) p t = refl

  so_still : (k : AstType) (l : Label) (fs gs : Fields) → ChangedIn A fs gs → Apt (node k l fs) → moves_so k l fs ≡ true → moves_so k l gs ≡ true
  so_still ForInStatement l fs gs h apt t = loop_still h (apt_parts ForInStatement l fs apt) t
  so_still ForOfStatement l fs gs h apt t = loop_still h (apt_parts ForOfStatement l fs apt) t
  so_still FunctionDeclaration l fs gs h apt t = t
  so_still FunctionExpression l fs gs h apt t = t
  so_still ArrowFunctionExpression l fs gs h apt t = t
  so_still _ l fs gs h apt t = refl

  pub so_kept : {a b : Tree} → Changed A a b → Apt a → all_nodes moves_so a ≡ true → all_nodes moves_so b ≡ true
  so_kept h apt t = apt_kept A moves_so (λ a b g. moved_kept moves_so made_so loops_so (λ b e. refl) w g.index a b g.holds) so_still h apt t
