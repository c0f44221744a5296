-- A step by which a pattern moves out of the head of a loop keeps the runs of a program.
use Rattle.std.proofs.Common.{◌≡◌, inl, inr, ℕ, refl, sym, ap, subst, ◌∙◌, List, [], ◌∷◌, ◌++◌}
use Rattle.std.specs.Prelude.{◌⊎◌, Bool, true, false, not, ◌&&◌, ◌||◌, Option, Some, bytes_eq, codes}
use Rattle.std.proofs.lemmas.Bool.{and_parts}
use Rattle.std.proofs.lemmas.List.{append-nil}
use Rattle.std.proofs.lemmas.Slice.Eq.{bytes_eq-Decides}
use Rattle.es_tree.specs.BoundNames.{bound_identifiers}
use Rattle.es_tree.specs.Fresh.{is_among}
use Rattle.es_tree.specs.Names.{first_text}
use Rattle.es_tree.specs.RestTargets.{is_rest_target}
use Rattle.es_tree.specs.Scopes.{Declared}
use Rattle.es_tree.specs.Tree.{Tree, node, Label, Fields, done, ◌then◌, missing, one, many, statements, Trees, empty, ◌before◌}
use Rattle.es_tree.specs.Walks.{all_nodes}
use Rattle.es_tree.specs.Words.{Text}
use Rattle.es_tree.specs.declared.ast_type.AstType.{AstType}
use Rattle.es_tree.specs.declared.ast_type.AstType.TheVariants.{BlockStatement, ForInStatement, ForOfStatement, VariableDeclaration, VariableDeclarator}
use Rattle.es_runs.specs.Core.{World, name}
use Rattle.es_runs.specs.Alike.{SameWorld}
use Rattle.es_runs.specs.Runs.{identifier as name_alone, only}
use Rattle.es_semantic.specs.RolesOf.{binding_of, reads}
use Rattle.es_semantic.specs.declared.place.Role.TheVariants.{Binds}
use Rattle.es_resolution.specs.Declarations.{declared, is_lexical}
use Rattle.es_resolution.specs.Named.{Named}
use Rattle.es_resolution.specs.Resolved.{bound_by}
use Rattle.es_steps.specs.CatchPatterns.CatchRest.{moves}
use Rattle.es_steps.specs.LoopHeads.{IsForEach, head_fields, new_head}
use Rattle.es_steps.specs.LoopHeads.HeadRest.{lexical_head, var_head}
use Rattle.es_steps.specs.LoopHeads.IsForEach.{for_in, for_of}
use Rattle.es_steps.specs.LoopHeads.TargetHead.{target_head}
use Rattle.es_steps.specs.Nodes.{made}
use Rattle.es_steps.specs.ParameterPatterns.ParameterRest.{in_arrow, in_declaration, in_expression}
use Rattle.es_steps.specs.Patterns.{avoiding}
use Rattle.es_steps.specs.Steps.{Ledger, Site, Spot, Whole}
use Rattle.es_steps.specs.Steps.Spot.{at_node}
use Rattle.es_steps.proofs.Taken.{whole_in}
use Rattle.es_arrow_bodies.specs.ArrowBodies.BodyRule.{returns}
use Rattle.es_rest_shapes.specs.RestShapes.{is_plain_pattern}
use Rattle.es_pattern_moves.specs.MoveRows.{MoveWalkRow, MovesOut}
use Rattle.es_pattern_moves.specs.MoveRows.MoveWalkRow.{from_arrow, from_catch, from_declaration, from_expression, from_head, from_target, from_value}
use Rattle.es_pattern_moves.specs.PatternMoves.{is_var, meets}
use Rattle.es_statement_runs.specs.Alike.{SenseLike}
use Rattle.es_statement_runs.specs.Helpers.{Supply}
use Rattle.es_statement_runs.specs.Kinds.{sense}
use Rattle.es_statement_runs.specs.Laws.{apart_from, block_of, declare_statement, head_hidden, object_pattern_at}
use Rattle.es_statement_runs.specs.Names.{declared_as, is_word, lexical_in, lexical_names, names_of_all, names_where, var_names}
use Rattle.es_statement_runs.specs.Places.{Take, all_good, avoids, placed_at, target_taken, value_taken}
use Rattle.es_statement_runs.specs.Programs.{names_no_cell}
use Rattle.es_statement_runs.specs.Scopes.{are_program_names}
use Rattle.es_statement_runs.proofs.Catches.{declared_putter, own_binding}
use Rattle.es_statement_runs.proofs.KindsAlike.{inner}
use Rattle.es_statement_steps.proofs.DeclaredNames.{any_called, pattern_names}
use Rattle.es_statement_steps.proofs.FreshNames.{unused_avoids}
use Rattle.es_statement_steps.proofs.MadeNames.{fresh_made, made_apart, made_no_cell}
use Rattle.es_statement_steps.proofs.Stands.{stands}
use Rattle.es_rest_runs.proofs.GrownNames.{Apt, parts_of}
use Rattle.es_rest_runs.proofs.QuietSteps.{Before, PlainRule}
use Rattle.es_rest_runs.proofs.Stores.{IsNew, plain_shape}
use Rattle.es_moved_runs.specs.Laws.{HeadMovesRow, LawHeadMoves, binds, binds_none_asked, is_block, is_from_head, is_let_or_const}
use Rattle.es_moved_runs.proofs.BoundCells.{among_called, bound_free, names_as, names_declared, texts_of}
use Rattle.es_moved_runs.proofs.CatchMoves.{walk_nodes, walk_pending, walk_this, walk_top}
use Rattle.es_moved_runs.proofs.HeadsAlike.{HeadParts, bad_in_head, either_false, loop_sense}
use Rattle.es_moved_runs.proofs.HeldNames.{bad_alone}
use Rattle.es_moved_runs.proofs.MovedSteps.{MovesSo, SomeMoved, one_step}
use Rattle.es_moved_runs.proofs.TurnedNames.{Turned}
use Rattle.es_moved_runs.proofs.TurnedNames.Turned.{turned_in, turned_of}
use Rattle.es_moved_runs.proofs.TurnedPlaces.{Sound}
use Rattle.es_moved_runs.proofs.TurnedRuns.{MeansSame, NoneSaid, made_seen, new_apart}

-- THE RIGHT SIDE holds no name of the head: so the rule says

abbrev pub Where : Bool → Type 0 → Type 0
Where true A = A
Where false A = Unit {0}

where_true : {A : Type 0} (b : Bool) → b ≡ true → A → Where b A
where_true true e h = h
where_true false e h = absurd (cc e)

where_false : (A : Type 0) (b : Bool) → b ≡ false → Where b A
where_false A true e = absurd (cc e)
where_false A false e = tt

where_so : {A : Type 0} (b : Bool) → b ≡ true → Where b A → A
where_so true e h = h
where_so false e h = absurd (cc e)

abbrev pub LexicalNamed : Whole → Text → Tree → Tree → Type 0
LexicalNamed w kind p e = Where (is_lexical (binding_of kind)) (Named (avoiding (declared false (Binds (binding_of kind)) p) w.in_use) w.free_symbol reads e)

abbrev pub HeadNamed : Whole → Fields → Type 0
HeadNamed w (one (node VariableDeclaration l (many (node VariableDeclarator j (one p then missing then done) before empty) then done)) then one e then one b then done) = LexicalNamed w (first_text l.texts) p e
HeadNamed w fs = Unit {0}

abbrev pub LoopNamed : Whole → Tree → Type 0
LoopNamed w (node ForInStatement m fs) = HeadNamed w fs
LoopNamed w (node ForOfStatement m fs) = HeadNamed w fs
LoopNamed w t = Unit {0}

target_named : (w : Whole) (t e b : Tree) → is_rest_target (one t) ≡ true → HeadNamed w (one t then one e then one b then done)
target_named w (node VariableDeclaration l fs) e b h = absurd (cc h)
target_named w (node k l fs) e b h = tt

loop_named : {n : Site} {s s' : Ledger} {t : Tree} {y : Spot} → MovesOut n s (at_node t) s' y → LoopNamed (whole_in s) t
loop_named (inl (inl (moves holds fresh))) = tt
loop_named (inl (inr (inl (lexical_head {l = l} for_in holds fresh lexical named silent bare)))) = where_true (is_lexical (binding_of (first_text l.texts))) lexical named
loop_named (inl (inr (inl (lexical_head {l = l} for_of holds fresh lexical named silent bare)))) = where_true (is_lexical (binding_of (first_text l.texts))) lexical named
loop_named (inl (inr (inl (var_head {w = w} {l = l} {p = p} {e = e} for_in holds fresh variable none silent bare)))) = where_false (Named (avoiding (declared false (Binds (binding_of (first_text l.texts))) p) w.in_use) w.free_symbol reads e) (is_lexical (binding_of (first_text l.texts))) (ap is_lexical variable)
loop_named (inl (inr (inl (var_head {w = w} {l = l} {p = p} {e = e} for_of holds fresh variable none silent bare)))) = where_false (Named (avoiding (declared false (Binds (binding_of (first_text l.texts))) p) w.in_use) w.free_symbol reads e) (is_lexical (binding_of (first_text l.texts))) (ap is_lexical variable)
loop_named {s = s} (inl (inr (inr (inl (target_head {t = t} {e = e} {b = b} for_in rest fresh silent right bare))))) = target_named (whole_in s) t e b rest
loop_named {s = s} (inl (inr (inr (inl (target_head {t = t} {e = e} {b = b} for_of rest fresh silent right bare))))) = target_named (whole_in s) t e b rest
loop_named (inl (inr (inr (inr (in_declaration b1 b2 b3))))) = tt
loop_named (inl (inr (inr (inr (in_expression b1 b2 b3))))) = tt
loop_named (inl (inr (inr (inr (in_arrow b1 b2))))) = tt
loop_named (inr (returns expression)) = tt

-- WHAT THE ROW MAKES

abbrev pub is_kind : Text → Type 0
is_kind kind = (kind ≡ codes "let") ⊎ (kind ≡ codes "const")

pub data HeadMoved (w : Whole) (x : Text) : Tree → Tree → Type 0 where
  head_moved : {k : AstType} (m l j lp lb : Label) (ps bs : Trees) (e : Tree) (s : Option ℕ) → IsForEach k → IsNew w x → is_kind (first_text l.texts) → LexicalNamed w (first_text l.texts) (object_pattern_at lp ps) e → binds_none_asked (object_pattern_at lp ps) ≡ true →
      HeadMoved w x (node k m (head_fields l j (object_pattern_at lp ps) e (block_of lb bs))) (node k m (new_head (first_text l.texts) (record { name = x; symbol = s }) (object_pattern_at lp ps) e (block_of lb bs)))

let_or_const : (kind : Text) → is_let_or_const kind ≡ true → is_kind kind
let_or_const kind h = at (is_word (codes "let") kind) (is_word (codes "const") kind) refl refl h
  where
    at : (a b : Bool) → is_word (codes "let") kind ≡ a → is_word (codes "const") kind ≡ b → (a || b) ≡ true → is_kind kind
    at true b f g h = inl ((bytes_eq-Decides kind (codes "let")).0 f)
    at false true f g h = inr ((bytes_eq-Decides kind (codes "const")).0 g)
    at false false f g h = absurd (cc h)

pub record BlockShape (b : Tree) : Type 0 where
  pub label : Label
  pub parts : Trees
  pub same : b ≡ block_of label parts

block_shape : (b : Tree) → is_block b ≡ true → BlockShape b
block_shape (node BlockStatement l (statements ts then done)) e = record { label = l; parts = ts; same = refl }
block_shape (node BlockStatement l (statements ts then (f then fs))) e = absurd (cc e)
block_shape (node BlockStatement l (missing then fs)) e = absurd (cc e)
block_shape (node BlockStatement l (one t then fs)) e = absurd (cc e)
block_shape (node BlockStatement l (many ts then fs)) e = absurd (cc e)
block_shape (node BlockStatement l done) e = absurd (cc e)
block_shape (node _ l fs) e = absurd (cc e)

head_at : (w : Whole) {k : AstType} (m l j : Label) (p e b : Tree) (x : Text) (s : Option ℕ) → IsForEach k → IsNew w x → is_kind (first_text l.texts) → LexicalNamed w (first_text l.texts) p e → is_plain_pattern p ≡ true → is_block b ≡ true → binds_none_asked p ≡ true →
    HeadMoved w x (node k m (head_fields l j p e b)) (node k m (new_head (first_text l.texts) (record { name = x; symbol = s }) p e b))
head_at w {k} m l j p e b x s each new kind named plain block asked =
    let shape = plain_shape p plain in
    let inside = block_shape b block in
    let P = object_pattern_at shape.label shape.parts in
    subst (λ (p : Tree). HeadMoved w x (node k m (head_fields l j p e b)) (node k m (new_head (first_text l.texts) (record { name = x; symbol = s }) p e b))) (sym shape.same)
    (subst (λ (b : Tree). HeadMoved w x (node k m (head_fields l j P e b)) (node k m (new_head (first_text l.texts) (record { name = x; symbol = s }) P e b))) (sym inside.same)
    (head_moved m l j shape.label inside.label shape.parts inside.parts e s each new kind (subst (λ (p : Tree). LexicalNamed w (first_text l.texts) p e) shape.same named) (subst (λ (p : Tree). binds_none_asked p ≡ true) shape.same asked)))

fields_named : (w : Whole) {k : AstType} (m l j : Label) (p e b : Tree) → IsForEach k → LoopNamed w (node k m (head_fields l j p e b)) → LexicalNamed w (first_text l.texts) p e
fields_named w m l j p e b for_in h = h
fields_named w m l j p e b for_of h = h

pub head_made : {n : Site} {s s' : Ledger} {t u : Tree} (r : MoveWalkRow n s (at_node t) s' (at_node u)) → MovesOut n s (at_node t) s' (at_node u) → is_from_head r ≡ true → SomeMoved HeadMoved (whole_in s) t u
head_made (from_head {w = w} m l j p e b x each test fresh) out so =
    let d = and_parts (is_let_or_const (first_text l.texts)) (is_block b && binds_none_asked p) so in
    let c = and_parts (is_block b) (binds_none_asked p) d.1 in
    record { index = x; holds = head_at w m l j p e b x (Some w.free_symbol) each (fresh.free, fresh_made w.in_use _ x fresh) (let_or_const (first_text l.texts) d.0) (fields_named w m l j p e b each (loop_named out)) (and_parts (is_plain_pattern p) (is_var l || not (meets p e)) test).0 c.0 c.1 }
head_made (from_catch m l p bs x b1 b2) out so = absurd (cc so)
head_made (from_target m t e b x b1 b2 b3) out so = absurd (cc so)
head_made (from_declaration m l ps qs ds ts us x b1 b2 b3) out so = absurd (cc so)
head_made (from_expression m l ps qs ds ts us x b1 b2 b3) out so = absurd (cc so)
head_made (from_arrow m l ps qs ds ts us x b1 b2) out so = absurd (cc so)
head_made (from_value m ps e b1 b2 b3) out so = absurd (cc so)

pub heads-rule : PlainRule HeadMovesRow (Before (SomeMoved HeadMoved))
heads-rule = record {
  nodes = λ n s s' x y h. walk_nodes h.row.0;
  pending = λ n s s' t u h. walk_pending h.row.0;
  this = λ n s s' t u h. walk_this h.row.0;
  top = λ n s s' t u h. walk_top h.row.0;
  made = λ n s s' t u h. head_made h.row.0 h.row.1 h.from;
}

-- ITS TWO SIDES

pub head_new : (w : Whole) (x : Text) (a b : Tree) → HeadMoved w x a b → IsNew w x
head_new w x _ _ (head_moved m l j lp lb ps bs e s each new kind named asked) = new

pub head_turn : (w : Whole) (x : Text) (a b : Tree) → HeadMoved w x a b → Turned a b
head_turn w x _ _ (head_moved m l j lp lb ps bs e s for_in new kind named asked) = turned_in m _ _ e (block_of lb bs) _
head_turn w x _ _ (head_moved m l j lp lb ps bs e s for_of new kind named asked) = turned_of m _ _ e (block_of lb bs) _

-- a declaration by another word declares nothing by `var`
abbrev declares_vars : Text → Fields → List Declared
declares_vars kind fs = names_where (is_word (codes "var") kind) kind fs

no_var : (kind : Text) (fs : Fields) → is_kind kind → declares_vars kind fs ≡ []
no_var kind fs (inl g) = subst (λ k. declares_vars k fs ≡ []) (sym g) refl
no_var kind fs (inr g) = subst (λ k. declares_vars k fs ≡ []) (sym g) refl

head_vars_so : (kind : Text) → is_kind kind → (os bs cs : Fields) (E V : List Declared) → declares_vars kind bs ++ (E ++ ((((declares_vars kind cs ++ (V ++ [])) ++ []) ++ []))) ≡ declares_vars kind os ++ (E ++ (V ++ []))
head_vars_so kind k os bs cs E V =
    (λ i. no_var kind bs k i ++ (E ++ ((((no_var kind cs k i ++ (V ++ [])) ++ []) ++ []))))
    ∙ ap (λ ds. E ++ ds) (append-nil ((V ++ []) ++ []) ∙ append-nil (V ++ []))
    ∙ ap (λ ds. ds ++ (E ++ (V ++ []))) (sym (no_var kind os k))

pub head_vars : (w : Whole) (x : Text) (a b : Tree) → HeadMoved w x a b → Apt a → var_names b ≡ var_names a
head_vars w x _ _ (head_moved m l j lp lb ps bs e s for_in new kind named asked) apt = head_vars_so (first_text l.texts) kind _ _ _ (var_names e) (var_names (block_of lb bs))
head_vars w x _ _ (head_moved m l j lp lb ps bs e s for_of new kind named asked) apt = head_vars_so (first_text l.texts) kind _ _ _ (var_names e) (var_names (block_of lb bs))

-- what the parts of the head and the body avoid
module _ (o : Supply) (whole : Whole) (x : Text) (new : IsNew whole x) (m l j lp lb : Label) (ps bs : Trees) (e : Tree) (s : Option ℕ) (kind : is_kind (first_text l.texts)) (named : LexicalNamed whole (first_text l.texts) (object_pattern_at lp ps) e)
    (asked : binds_none_asked (object_pattern_at lp ps) ≡ true) where
  abbrev P : Tree
  P = object_pattern_at lp ps

  abbrev B : Tree
  B = block_of lb bs

  abbrev binding : Trees
  binding = node VariableDeclarator j (one P then missing then done) before empty

  abbrev H : Tree
  H = node VariableDeclaration l (many binding then done)

  abbrev fields : Fields
  fields = head_fields l j P e B

  abbrev ids : List Tree
  ids = bound_identifiers P

  abbrev D : List Declared
  D = lexical_names H

  abbrev N : List Text
  N = names_of_all D

  abbrev bad : Take → Tree → Bool
  bad = avoids (bad_alone x)

  names_at : (K : Text) → is_kind K → names_of_all (names_where (not (is_word (codes "var") K)) K (many binding then done)) ≡ texts_of ids
  names_at K (inl g) = subst (λ K. names_of_all (names_where (not (is_word (codes "var") K)) K (many binding then done)) ≡ texts_of ids) (sym g) (names_declared (codes "let") ids)
  names_at K (inr g) = subst (λ K. names_of_all (names_where (not (is_word (codes "var") K)) K (many binding then done)) ≡ texts_of ids) (sym g) (names_declared (codes "const") ids)

  names_eq : N ≡ texts_of ids
  names_eq = names_at (first_text l.texts) kind

  is_false : (b : Bool) → not b ≡ true → b ≡ false
  is_false true h = absurd (cc h)
  is_false false h = refl

  unbound : (y : Text) → binds P y ≡ false → is_among N y ≡ false
  unbound y h = ap (λ ns. is_among ns y) (names_eq ∙ sym (names_as (codes "let") ids)) ∙ h

  lexical_kind : (K : Text) → is_kind K → is_lexical (binding_of K) ≡ true
  lexical_kind K (inl g) = subst (λ K. is_lexical (binding_of K) ≡ true) (sym g) refl
  lexical_kind K (inr g) = subst (λ K. is_lexical (binding_of K) ≡ true) (sym g) refl

  lexical : is_lexical (binding_of (first_text l.texts)) ≡ true
  lexical = lexical_kind (first_text l.texts) kind

  right_apart : all_nodes stands P ≡ true → (y : Text) → avoiding (declared false (Binds (binding_of (first_text l.texts))) P) whole.in_use y ≡ true → head_hidden x N y ≡ false
  right_apart fine y h =
      let bs = declared false (Binds (binding_of (first_text l.texts))) P in
      let d = and_parts (whole.in_use y) (not (bound_by bs y)) h in
      let same : bound_by bs y ≡ any_called y ids = pattern_names y false (Binds (binding_of (first_text l.texts))) P refl (λ q. refl) fine ∙ ap (λ c. c && any_called y ids) lexical in
      either_false (only x y) (is_among N y) (new_apart whole x new y d.0) (ap (λ ns. is_among ns y) names_eq ∙ among_called ids y ∙ sym same ∙ is_false (bound_by bs y) d.1)

  right_avoids : all_nodes stands P ≡ true → all_nodes stands e ≡ true → avoids (bad_in_head x N) value_taken e ≡ true
  right_avoids fine stood = unused_avoids (avoiding (declared false (Binds (binding_of (first_text l.texts))) P) whole.in_use) whole.free_symbol (head_hidden x N) (right_apart fine) reads value_taken e (λ q. absurd (cc q)) (where_so (is_lexical (binding_of (first_text l.texts))) lexical named) stood

  apt_pattern : Apt H → Apt P
  apt_pattern apt = (parts_of VariableDeclarator j (one P then missing then done) (parts_of VariableDeclaration l (many binding then done) apt).0.0.0).0.0

  head_parts : (J : Text) → lexical_in (declare_statement J (made [] []) P (name_alone x) before B before empty) ≡ D → all_nodes stands P ≡ true → all_nodes stands e ≡ true → all_nodes names_no_cell P ≡ true →
      (all_good (bad_alone x) N && ((((bad target_taken P && true) && true) && true) && (bad value_taken e && (bad value_taken B && true)))) ≡ true → HeadParts x J lp (made [] []) lb ps bs e D
  head_parts J names fine stood cells av =
      let d = and_parts (all_good (bad_alone x) N) ((((bad target_taken P && true) && true) && true) && (bad value_taken e && (bad value_taken B && true))) av in
      let h = and_parts (((bad target_taken P && true) && true) && true) (bad value_taken e && (bad value_taken B && true)) d.1 in
      let r = and_parts (bad value_taken e) (bad value_taken B && true) h.1 in
      let q = and_parts (not (binds P (codes "Math"))) (not (binds P (codes "babelHelpers")) && not (binds P (codes "require"))) asked in
      let g = and_parts (not (binds P (codes "babelHelpers"))) (not (binds P (codes "require"))) q.1 in
      record {
        pattern = (and_parts (bad target_taken P) true (and_parts (bad target_taken P && true) true (and_parts ((bad target_taken P && true) && true) true h.0).0).0).0;
        body = (and_parts (bad value_taken B) true r.1).0;
        names = names;
        good = d.0;
        program_names = subst (λ ns. are_program_names ns ≡ true) (sym names_eq) (bound_free P cells);
        math = unbound (codes "Math") (is_false (binds P (codes "Math")) q.0);
        helpers = record {
          global = either_false (only x (codes "babelHelpers")) (is_among N (codes "babelHelpers")) (made_apart (codes "babelHelpers") x refl new.1) (unbound (codes "babelHelpers") (is_false (binds P (codes "babelHelpers")) g.0));
          require = either_false (only x (codes "require")) (is_among N (codes "require")) (made_apart (codes "require") x refl new.1) (unbound (codes "require") (is_false (binds P (codes "require")) g.1));
        };
        right = right_avoids fine stood;
      }

  cells_of_pattern : ((((all_nodes names_no_cell P && true) && true) && true) && (all_nodes names_no_cell e && (all_nodes names_no_cell B && true))) ≡ true → all_nodes names_no_cell P ≡ true
  cells_of_pattern h =
      let c = and_parts (((all_nodes names_no_cell P && true) && true) && true) (all_nodes names_no_cell e && (all_nodes names_no_cell B && true)) h in
      (and_parts (all_nodes names_no_cell P) true (and_parts (all_nodes names_no_cell P && true) true (and_parts ((all_nodes names_no_cell P && true) && true) true c.0).0).0).0

  abbrev declares_in : Text → List Declared
  declares_in K = names_where (not (is_word (codes "var") K)) K (many binding then done)

  let_names : first_text l.texts ≡ codes "let" → lexical_in (declare_statement (codes "let") (made [] []) P (name_alone x) before B before empty) ≡ D
  let_names g = subst (λ K. (declared_as (codes "let") ids ++ []) ++ [] ≡ declares_in K) (sym g) (append-nil (declared_as (codes "let") ids ++ []))

  const_names : first_text l.texts ≡ codes "const" → lexical_in (declare_statement (codes "const") (made [] []) P (name_alone x) before B before empty) ≡ D
  const_names g = subst (λ K. (declared_as (codes "const") ids ++ []) ++ [] ≡ declares_in K) (sym g) (append-nil (declared_as (codes "const") ids ++ []))

  abbrev U : Bool
  U = is_word (codes "using") (first_text l.texts)

  no_use : (K : Text) → is_kind K → is_word (codes "using") K ≡ false
  no_use K (inl g) = subst (λ K. is_word (codes "using") K ≡ false) (sym g) refl
  no_use K (inr g) = subst (λ K. is_word (codes "using") K ≡ false) (sym g) refl

  unused : U ≡ false
  unused = no_use (first_text l.texts) kind

  abbrev head_named_by : Text → Fields
  head_named_by K = new_head K (record { name = x; symbol = s }) P e B

  abbrev Loops : Take → World → World → List Text → Text → AstType → Text → Type 0
  Loops t W V ls y k K = SenseLike (apart_from x) W V t (sense (placed_at o W ls y) (node k m fields)) (sense (placed_at o V ls y) (node k m (head_named_by K)))

  math_apart : bytes_eq (codes "Math") x ≡ false
  math_apart = made_apart (codes "Math") x refl new.1

  module _ (t : Take) (W V : World) (same : SameWorld (only x) W V) (none : NoneSaid W V) (ls : List Text) (y : Text) where
    of_let : HeadParts x (codes "let") lp (made [] []) lb ps bs e D → Loops t W V ls y ForOfStatement (codes "let")
    of_let h =
        rw (own_binding V x (codes "let"), declared_putter o (inner V (record { name = x; kind = codes "let" } ∷ [])) (codes "let") (name x))
        (loop_sense (codes "let") x math_apart (made_no_cell x new.1) o (made_seen o whole x new) W V same none (codes "let") lp (made [] []) lb ps bs e D h t ls true U U (is_word (codes "using") (codes "let") || false) unused unused refl)

    in_let : HeadParts x (codes "let") lp (made [] []) lb ps bs e D → Loops t W V ls y ForInStatement (codes "let")
    in_let h =
        rw (own_binding V x (codes "let"), declared_putter o (inner V (record { name = x; kind = codes "let" } ∷ [])) (codes "let") (name x))
        (loop_sense (codes "let") x math_apart (made_no_cell x new.1) o (made_seen o whole x new) W V same none (codes "let") lp (made [] []) lb ps bs e D h t ls false false U (is_word (codes "using") (codes "let") || false) refl unused refl)

    of_const : HeadParts x (codes "const") lp (made [] []) lb ps bs e D → Loops t W V ls y ForOfStatement (codes "const")
    of_const h =
        rw (own_binding V x (codes "const"), declared_putter o (inner V (record { name = x; kind = codes "const" } ∷ [])) (codes "const") (name x))
        (loop_sense (codes "const") x math_apart (made_no_cell x new.1) o (made_seen o whole x new) W V same none (codes "const") lp (made [] []) lb ps bs e D h t ls true U U (is_word (codes "using") (codes "const") || false) unused unused refl)

    in_const : HeadParts x (codes "const") lp (made [] []) lb ps bs e D → Loops t W V ls y ForInStatement (codes "const")
    in_const h =
        rw (own_binding V x (codes "const"), declared_putter o (inner V (record { name = x; kind = codes "const" } ∷ [])) (codes "const") (name x))
        (loop_sense (codes "const") x math_apart (made_no_cell x new.1) o (made_seen o whole x new) W V same none (codes "const") lp (made [] []) lb ps bs e D h t ls false false U (is_word (codes "using") (codes "const") || false) refl unused refl)

    of_loops : is_kind (first_text l.texts) → Sound (node ForOfStatement m fields) → bad t (node ForOfStatement m fields) ≡ true → Loops t W V ls y ForOfStatement (first_text l.texts)
    of_loops (inl g) sound av = let p = parts_of ForOfStatement m fields sound.0 in subst (λ K. Loops t W V ls y ForOfStatement K) (sym g) (of_let (head_parts (codes "let") (let_names g) (apt_pattern p.0.0).0 p.1.0.0.0 (cells_of_pattern sound.1) av))
    of_loops (inr g) sound av = let p = parts_of ForOfStatement m fields sound.0 in subst (λ K. Loops t W V ls y ForOfStatement K) (sym g) (of_const (head_parts (codes "const") (const_names g) (apt_pattern p.0.0).0 p.1.0.0.0 (cells_of_pattern sound.1) av))

    in_loops : is_kind (first_text l.texts) → Sound (node ForInStatement m fields) → bad t (node ForInStatement m fields) ≡ true → Loops t W V ls y ForInStatement (first_text l.texts)
    in_loops (inl g) sound av = let p = parts_of ForInStatement m fields sound.0 in subst (λ K. Loops t W V ls y ForInStatement K) (sym g) (in_let (head_parts (codes "let") (let_names g) (apt_pattern p.0.0).0 p.1.0.0.0 (cells_of_pattern sound.1) av))
    in_loops (inr g) sound av = let p = parts_of ForInStatement m fields sound.0 in subst (λ K. Loops t W V ls y ForInStatement K) (sym g) (in_const (head_parts (codes "const") (const_names g) (apt_pattern p.0.0).0 p.1.0.0.0 (cells_of_pattern sound.1) av))

pub head_means : (u : Supply) (w : Whole) (x : Text) → IsNew w x → MeansSame u x (HeadMoved w x)
head_means u w x new t _ _ (head_moved m l j lp lb ps bs e s for_of new' kind named asked) sound av W V same none ls y = of_loops u w x new m l j lp lb ps bs e s kind named asked t W V same none ls y kind sound av
head_means u w x new t _ _ (head_moved m l j lp lb ps bs e s for_in new' kind named asked) sound av W V same none ls y = in_loops u w x new m l j lp lb ps bs e s kind named asked t W V same none ls y kind sound av

pub head-moves : (u : Supply) → MovesSo u HeadMoved
head-moves u = record { new = head_new; turn = head_turn; vars = head_vars; means = λ w x new. head_means u w x new }

pub law_head_moves_proof : LawHeadMoves
law_head_moves_proof u w s p q class bound step silent silent_after = one_step u HeadMoved (head-moves u) HeadMovesRow heads-rule w s p q class bound.named step silent silent_after
