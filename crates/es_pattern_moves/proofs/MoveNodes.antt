-- At a node that is sound, and whose names are in use, a row of a walk is a row: what the tests of the tree find is apart, and form and the
-- static rules say the rest.
use Rattle.std.proofs.Common.{◌≡◌, refl, inl, inr, ap, subst, [], ◌∷◌, ◌++◌}
use Rattle.std.specs.Prelude.{Bool, true, false, ◌||◌, ◌&&◌, not, Option, bytes_eq, codes, if◌then◌else◌}
use Rattle.std.proofs.lemmas.Bool.{and_parts, and_right, not-true, or_parts}
use Rattle.es_tree.specs.Fresh.{IsFreshName}
use Rattle.es_tree.specs.HasForm.{has_form, trees_form}
use Rattle.es_tree.specs.Names.{first_text}
use Rattle.es_tree.specs.RestTargets.{is_rest_target}
use Rattle.es_tree.specs.Tree.{Tree, node, Label, Fields, done, ◌then◌, missing, one, many, Trees, empty, ◌before◌}
use Rattle.es_tree.specs.Words.{Text}
use Rattle.es_tree.specs.declared.ast_type.AstType.{AstType}
use Rattle.es_tree.specs.declared.ast_type.AstType.TheVariants.{ForInStatement, ForOfStatement, FunctionBody, ObjectPattern, ObjectTarget, VariableDeclaration, VariableDeclarator}
use Rattle.es_tree.specs.declared.table.Sort.{Sort}
use Rattle.es_tree.specs.declared.table.Sort.TheVariants.{AssignmentTarget as s-AssignmentTarget, Binding as s-Binding, Directive as s-Directive, Expression as s-Expression, ForLeft as s-ForLeft, Statement as s-Statement, VariableDeclarator as s-VariableDeclarator}
use Rattle.es_tree.proofs.NodeForm.{node_form}
use Rattle.es_semantic.specs.RolesOf.{binding_of, reads, refers}
use Rattle.es_semantic.specs.declared.place.Binding.{Binding}
use Rattle.es_semantic.specs.declared.place.Binding.TheVariants.{Constant, Let, Parameter, Variable}
use Rattle.es_semantic.specs.declared.place.Role.TheVariants.{Binds}
use Rattle.es_resolution.specs.Declarations.{Bound, declared, is_asked, is_lexical}
use Rattle.es_resolution.specs.Named.{Named, NamedAll}
use Rattle.es_resolution.specs.Resolved.{bound_by}
use Rattle.es_resolution.proofs.AllForms.{All, AllAmong}
use Rattle.es_changes.proofs.Expressions.{declares-none, law_expression_proof}
use Rattle.es_steps.specs.CatchPatterns.CatchRest.{moves}
use Rattle.es_steps.specs.LoopHeads.{HeadRest, IsForEach, TargetHead, assigning_head, head_fields, new_head}
use Rattle.es_steps.specs.LoopHeads.HeadRest.{lexical_head, var_head}
use Rattle.es_steps.specs.LoopHeads.IsForEach.{for_in, for_of}
use Rattle.es_steps.specs.LoopHeads.TargetHead.{target_head}
use Rattle.es_steps.specs.Nodes.{joined_trees}
use Rattle.es_steps.specs.Open.{Additions, Pending}
use Rattle.es_steps.specs.ParameterPatterns.{HoldsPattern, MayMove, MovesParameter, StandsApart, body_fields, lexical_names, parameter_names, var_names}
use Rattle.es_steps.specs.ParameterPatterns.HoldsPattern.{alone, with_default}
use Rattle.es_steps.specs.ParameterPatterns.MovesParameter.{moves_one as moves_parameter}
use Rattle.es_steps.specs.ParameterPatterns.ParameterRest.{in_arrow, in_declaration, in_expression}
use Rattle.es_steps.specs.Patterns.{IsSilent}
use Rattle.es_steps.specs.Rules.{next_name, with_made}
use Rattle.es_steps.specs.Steps.{Ledger, Site, Whole}
use Rattle.es_steps.specs.Steps.Ledger.{ledger}
use Rattle.es_steps.specs.Steps.Spot.{at_node}
use Rattle.es_steps.proofs.Taken.{whole_in}
use Rattle.es_steps.proofs.Written.{named-joined}
use Rattle.es_valid_rests.proofs.RestForms.{IsObjectTarget, at-sort, rest-target}
use Rattle.es_valid_rests.proofs.RestForms.IsObjectTarget.{object_target}
use Rattle.es_arrow_bodies.specs.ArrowBodies.BodyRule.{returns}
use Rattle.es_pattern_moves.specs.MoveRows.{MoveWalkRow, MovesOne, MovesOut}
use Rattle.es_pattern_moves.specs.MoveRows.MoveWalkRow.{from_arrow, from_catch, from_declaration, from_expression, from_head, from_target, from_value}
use Rattle.es_pattern_moves.specs.MoveRows.MovesOne.{moves_one}
use Rattle.es_pattern_moves.specs.PatternMoves.{are_later, binds_let, body_declares, declared_later, default_apart, is_var, may_move, meets, meets_among, moves_from_head, pattern_of, stands}
use Rattle.es_pattern_moves.proofs.BodyNames.{body-out}
use Rattle.es_pattern_moves.proofs.MovedNames.{stands-neither}
use Rattle.es_pattern_moves.proofs.NamesApart.{all-apart, named-apart}
use Rattle.es_pattern_moves.proofs.PatternNames.{binding-out}
use Rattle.es_pattern_moves.proofs.QuietStatements.{quiet-body}
use Rattle.es_pattern_moves.proofs.Settled.{Sound}
use Rattle.es_rest_rows.specs.RestRows.{binds_name}
use Rattle.es_rest_rows.proofs.PlainPatterns.{plain-holds}
use Rattle.es_rest_shapes.specs.RestShapes.{any_tree, is_plain_pattern}

-- a name that a pattern doesn't bind isn't declared by it
pub pattern-apart : (b : Binding) (p : Tree) → has_form s-Binding p ≡ true → (y : Text) → binds_name y p ≡ false → bound_by (declared false (Binds b) p) y ≡ false
pattern-apart b p h y e = binding-out false b y p h (and_right (is_asked false (Binds b)) (binds_name y p) e)

-- HEADS OF LOOPS

-- what the form of a loop says of its parts
record LoopForm (t e b : Tree) : Type 0 where
  left : has_form s-ForLeft t ≡ true
  value : has_form s-Expression e ≡ true
  body : has_form s-Statement b ≡ true

loop-form : (s : Sort) {k : AstType} (m : Label) (t e b : Tree) → IsForEach k → has_form s (node k m (one t then one e then one b then done)) ≡ true → LoopForm t e b
loop-form s m t e b each h = at each h
  where
    parts : (has_form s-ForLeft t && (has_form s-Expression e && (has_form s-Statement b && true))) ≡ true → LoopForm t e b
    parts d =
        let first = and_parts (has_form s-ForLeft t) (has_form s-Expression e && (has_form s-Statement b && true)) d in
        let second = and_parts (has_form s-Expression e) (has_form s-Statement b && true) first.1 in
        record { left = first.0; value = second.0; body = (and_parts (has_form s-Statement b) true second.1).0 }

    at : {k : AstType} → IsForEach k → has_form s (node k m (one t then one e then one b then done)) ≡ true → LoopForm t e b
    at for_in h = parts (node_form s ForInStatement m (one t then one e then one b then done) h).children
    at for_of h = parts (node_form s ForOfStatement m (one t then one e then one b then done) h).children

-- and of one that declares a pattern
pub record HeadForm (p e b : Tree) : Type 0 where
  pub pattern : has_form s-Binding p ≡ true
  pub value : has_form s-Expression e ≡ true
  pub body : has_form s-Statement b ≡ true

pub head-form : (s : Sort) (k : AstType) (m l l' : Label) (p e b : Tree) → IsForEach k → has_form s (node k m (head_fields l l' p e b)) ≡ true → HeadForm p e b
head-form s k m l l' p e b each h =
    let form = loop-form s m (node VariableDeclaration l (many (node VariableDeclarator l' (one p then missing then done) before empty) then done)) e b each h in
    let declaration = node_form s-ForLeft VariableDeclaration l (many (node VariableDeclarator l' (one p then missing then done) before empty) then done) form.left in
    let one_declarator = (and_parts (has_form s-VariableDeclarator (node VariableDeclarator l' (one p then missing then done)) && true) true declaration.children).0 in
    let declarator = node_form s-VariableDeclarator VariableDeclarator l' (one p then missing then done) (and_parts (has_form s-VariableDeclarator (node VariableDeclarator l' (one p then missing then done))) true one_declarator).0 in
    record { pattern = (and_parts (has_form s-Binding p) true declarator.children).0; value = form.value; body = form.body }

-- and what is known of the parts of a loop at its place
pub record HeadKnown (w : Whole) (e b : Tree) : Type 0 where
  pub named : Named w.in_use w.free_symbol reads e
  pub silent : declared false reads b ≡ []

loop-known : (n : Site) (w : Whole) {k : AstType} (m : Label) (t e b : Tree) → IsForEach k → has_form s-Statement b ≡ true → Named w.in_use w.free_symbol n.role (node k m (one t then one e then one b then done)) → All Sound (node k m (one t then one e then one b then done)) → HeadKnown w e b
loop-known n w m t e b for_in f h s = record { named = h.1.1.0; silent = quiet-body ForInStatement 2 b refl refl s.0.settled.1.1.0 s.1.1.1.0 f }
loop-known n w m t e b for_of f h s = record { named = h.1.1.0; silent = quiet-body ForOfStatement 2 b refl refl s.0.settled.1.1.0 s.1.1.1.0 f }

pub head-known : (n : Site) (w : Whole) (k : AstType) (m l l' : Label) (p e b : Tree) → IsForEach k → has_form s-Statement b ≡ true → Named w.in_use w.free_symbol n.role (node k m (head_fields l l' p e b)) → All Sound (node k m (head_fields l l' p e b)) → HeadKnown w e b
head-known n w k m l l' p e b each = loop-known n w m (node VariableDeclaration l (many (node VariableDeclarator l' (one p then missing then done) before empty) then done)) e b each

var-word : (word : Text) → bytes_eq word (codes "var") ≡ true → binding_of word ≡ Variable
var-word word e = ap (λ (a : Bool). if a then Variable else if bytes_eq word (codes "let") then Let else Constant) e

lexical-word : (word : Text) → bytes_eq word (codes "var") ≡ false → is_lexical (binding_of word) ≡ true
lexical-word word e = at (bytes_eq word (codes "var")) (bytes_eq word (codes "let")) e
  where
    at : (a b : Bool) → a ≡ false → is_lexical (if a then Variable else if b then Let else Constant) ≡ true
    at true b e = absurd (cc e)
    at false true e = refl
    at false false e = refl

not-met : (a b : Bool) → (a || not b) ≡ true → a ≡ false → b ≡ false
not-met true b e d = absurd (cc d)
not-met false b e d = not-true b e

head-moves : (n : Site) (w : Whole) (q : Pending) (s : Option Bound) (y : Additions) (k : AstType) (m l l' : Label) (p e b : Tree) (x : Text) → IsForEach k → moves_from_head (head_fields l l' p e b) ≡ true → IsFreshName w.in_use (codes "ref") x →
    Named w.in_use w.free_symbol n.role (node k m (head_fields l l' p e b)) → All Sound (node k m (head_fields l l' p e b)) →
    HeadRest n (ledger w q s y) (at_node (node k m (head_fields l l' p e b))) (ledger (with_made (next_name w x ∷ []) w) q s y) (at_node (node k m (new_head (first_text l.texts) (next_name w x) p e b)))
head-moves n w q s y k m l l' p e b x each head fresh named sound = at (is_var l) refl
  where
    form : HeadForm p e b
    form = head-form sound.0.sort k m l l' p e b each sound.0.form

    known : HeadKnown w e b
    known = head-known n w k m l l' p e b each form.body named sound

    parts : (is_plain_pattern p ≡ true) × ((is_var l || not (meets p e)) ≡ true)
    parts = and_parts (is_plain_pattern p) (is_var l || not (meets p e)) head

    value : IsSilent reads e
    value = (law_expression_proof e form.value).declares_nothing

    at : (c : Bool) → is_var l ≡ c → HeadRest n (ledger w q s y) (at_node (node k m (head_fields l l' p e b))) (ledger (with_made (next_name w x ∷ []) w) q s y) (at_node (node k m (new_head (first_text l.texts) (next_name w x) p e b)))
    at true c = var_head each (plain-holds p parts.0) fresh (var-word (first_text l.texts) c) (declares-none false (Binds Variable) s-Binding p refl refl form.pattern) value known.silent
    at false c =
        let binding : Binding = binding_of (first_text l.texts) in
        lexical_head each (plain-holds p parts.0) fresh (lexical-word (first_text l.texts) c)
        (named-apart (λ z. binds_name z p) (declared false (Binds binding) p) (pattern-apart binding p form.pattern) w.in_use w.free_symbol reads e (not-met (is_var l) (meets p e) parts.1 c) known.named) value known.silent

-- an object target declares nothing where a loop assigns to it
target-moves : (n : Site) (w : Whole) (q : Pending) (s : Option Bound) (y : Additions) (k : AstType) (m : Label) (t e b : Tree) (x : Text) → IsForEach k → is_rest_target (one t) ≡ true → IsFreshName w.in_use (codes "ref") x →
    Named w.in_use w.free_symbol n.role (node k m (one t then one e then one b then done)) → All Sound (node k m (one t then one e then one b then done)) →
    TargetHead n (ledger w q s y) (at_node (node k m (one t then one e then one b then done))) (ledger (with_made (next_name w x ∷ []) w) q s y) (at_node (node k m (assigning_head (next_name w x) t e b)))
target-moves n w q s y k m t e b x each rest fresh named sound =
    let form = loop-form sound.0.sort m t e b each sound.0.form in
    let known = loop-known n w m t e b each form.body named sound in
    target_head each rest fresh (silent t (rest-target t rest) form.left) (law_expression_proof e form.value).declares_nothing known.silent
  where
    silent : (t : Tree) → IsObjectTarget t → has_form s-ForLeft t ≡ true → IsSilent (refers false true) t
    silent t (object_target {l = l} {fs = fs}) h = λ v. declares-none v (refers false true) s-AssignmentTarget (node ObjectTarget l fs) refl refl (at-sort s-ForLeft s-AssignmentTarget ObjectTarget l fs refl h)

-- PARAMETERS

-- what the test says of a parameter
record Apart (a : Trees) (t : Tree) (c ts : Trees) (p : Tree) : Type 0 where
  earlier : meets_among p a ≡ false
  later : meets_among p c ≡ false
  own_default : default_apart t ≡ true
  body : stands (body_declares ts) p ≡ false

is-apart : (a : Trees) (t : Tree) (c ts : Trees) → may_move a t c ts ≡ true → Apart a t c ts (pattern_of t)
is-apart a t c ts may =
    let p : Tree = pattern_of t in
    let last = and_parts (are_later c && not (meets_among p a) && not (meets_among p c) && default_apart t && not (binds_let p)) (not (stands (declared_later c ts) p)) may in
    let fourth = and_parts (are_later c && not (meets_among p a) && not (meets_among p c) && default_apart t) (not (binds_let p)) last.0 in
    let third = and_parts (are_later c && not (meets_among p a) && not (meets_among p c)) (default_apart t) fourth.0 in
    let second = and_parts (are_later c && not (meets_among p a)) (not (meets_among p c)) third.0 in
    let first = and_parts (are_later c) (not (meets_among p a)) second.0 in
    let later = not-true (stands (declared_later c ts) p) last.1 in
    record {
      earlier = not-true (meets_among p a) first.1;
      later = not-true (meets_among p c) second.1;
      own_default = third.1;
      body = stands-neither (declared_later c ts) (declared_later c ts) (body_declares ts) (λ x e d. (or_parts (any_tree (binds_name x) c) (body_declares ts x) e).1) true p later later;
    }

-- a parameter that holds a pattern, and what is known of the pattern and of its default value
record ParameterKnown (w : Whole) (p t u : Tree) : Type 0 where
  is_it : pattern_of t ≡ p
  formed : has_form s-Binding p ≡ true
  named : Named w.in_use w.free_symbol (Binds Parameter) p
  default_named : default_apart t ≡ true → StandsApart (parameter_names p) w u

module _ (w : Whole) (x : Text) (l : Label) (fs : Fields) where
  abbrev p : Tree
  p = node ObjectPattern l fs

  parameter-known : (t u : Tree) → is_plain_pattern p ≡ true → HoldsPattern (next_name w x) p t u → Named w.in_use w.free_symbol (Binds Parameter) t → All Sound t → ParameterKnown w p t u
  parameter-known t u plain alone h s = record { is_it = refl; formed = at-sort s.0.sort s-Binding ObjectPattern l fs refl s.0.form; named = h; default_named = λ e. tt }
  parameter-known t u plain (with_default {l = m} {d = d} silent) h s =
      let formed : has_form s-Binding p ≡ true = at-sort s.1.0.0.sort s-Binding ObjectPattern l fs refl s.1.0.0.form in
      record {
        is_it = refl;
        formed = formed;
        named = h.1.0;
        default_named = λ e. named-apart (λ z. binds_name z p) (parameter_names p) (pattern-apart Parameter p formed) w.in_use w.free_symbol reads d (not-true (meets p d) e) h.1.1.0;
      }

  may-move : (a c ds ts : Trees) (t u : Tree) → ParameterKnown w p t u → Apart a t c ts p → NamedAll w.in_use w.free_symbol (Binds Parameter) a → NamedAll w.in_use w.free_symbol (Binds Parameter) c → ((y : Text) → body_declares ts y ≡ false → bound_by (lexical_names ds ts ++ var_names ds ts) y ≡ false) → MayMove w p u a c ds ts
  may-move a c ds ts t u k d na nc body = record {
    earlier = all-apart (λ z. binds_name z p) (parameter_names p) (pattern-apart Parameter p k.formed) w.in_use w.free_symbol (Binds Parameter) a d.earlier na;
    later = all-apart (λ z. binds_name z p) (parameter_names p) (pattern-apart Parameter p k.formed) w.in_use w.free_symbol (Binds Parameter) c d.later nc;
    own_default = k.default_named d.own_default;
    body = named-apart (body_declares ts) (lexical_names ds ts ++ var_names ds ts) body w.in_use w.free_symbol (Binds Parameter) p d.body k.named;
    form = declares-none true (Binds Parameter) s-Binding p refl refl k.formed;
  }

-- the body of a function
body-apart : (l : Label) (ds ts : Trees) → All Sound (node FunctionBody l (body_fields ds ts)) → (y : Text) → body_declares ts y ≡ false → bound_by (lexical_names ds ts ++ var_names ds ts) y ≡ false
body-apart l ds ts s y e =
    let first = and_parts (trees_form s-Directive s-Directive ds) (trees_form s-Statement s-Statement ts && true) (node_form s.0.sort FunctionBody l (body_fields ds ts) s.0.form).children in
    body-out y ds ts s.1.1.0 s.0.settled.1.0 first.0 (and_parts (trees_form s-Statement s-Statement ts) true first.1).0 e

all-joined : (xs ts : Trees) → AllAmong Sound (joined_trees xs ts) → AllAmong Sound ts
all-joined empty ts s = s
all-joined (x before xs) ts s = all-joined xs ts s.1

parameters-move : (w : Whole) (x : Text) (ps qs : Trees) (l : Label) (ds ts us : Trees) → MovesOne w x ps qs ts us → NamedAll w.in_use w.free_symbol (Binds Parameter) ps → AllAmong Sound ps → All Sound (node FunctionBody l (body_fields ds ts)) → MovesParameter w x ps qs ds ts us
parameters-move w x ps qs l ds ts us (moves_one a c es rest (node ObjectPattern m fs) t u none plain holds made may) named sound body =
    let it : Tree = node ObjectPattern m fs in
    let names = named-joined w.in_use w.free_symbol (Binds Parameter) a (t before c) named in
    let known = parameter-known w x m fs t u plain holds names.1.0 (all-joined a (t before c) sound).0 in
    let apart = subst (λ (z : Tree). Apart a t c (joined_trees es rest) z) known.is_it (is-apart a t c (joined_trees es rest) may) in
    moves_parameter a c ds es rest m fs t u (plain-holds it plain) made holds (may-move w x m fs a c ds (joined_trees es rest) t u known apart names.0 names.1.1 (body-apart l ds (joined_trees es rest) body))
parameters-move w x ps qs l ds ts us (moves_one a c es rest (node _ m fs) t u none plain holds made may) named sound body = absurd (cc plain)

-- ROWS

pub row-moves : (n : Site) (s s' : Ledger) (t u : Tree) → MoveWalkRow n s (at_node t) s' (at_node u) → Named (whole_in s).in_use (whole_in s).free_symbol n.role t → All Sound t → MovesOut n s (at_node t) s' (at_node u)
row-moves n s s' t u (from_catch m l p bs x plain fresh) h k = inl (inl (moves (plain-holds p (and_parts (is_plain_pattern p) (not (binds_let p)) plain).0) fresh))
row-moves n s s' t u (from_head {w = w} {q = q} {s = z} {y = y} {k = k} m l l' p e b x each head fresh) h g = inl (inr (inl (head-moves n w q z y k m l l' p e b x each head fresh h g)))
row-moves n s s' t u (from_target {w = w} {q = q} {s = z} {y = y} {k = k} m p e b x each rest fresh) h g = inl (inr (inr (inl (target-moves n w q z y k m p e b x each rest fresh h g))))
row-moves n s s' t u (from_declaration {w = w} m l ps qs ds ts us x called fresh moved) h k = inl (inr (inr (inr (in_declaration fresh called (parameters-move w x ps qs l ds ts us moved h.1.1.0 k.1.1.0 k.1.1.1.0)))))
row-moves n s s' t u (from_expression {w = w} m l ps qs ds ts us x called fresh moved) h k = inl (inr (inr (inr (in_expression fresh called (parameters-move w x ps qs l ds ts us moved h.1.1.0 k.1.1.0 k.1.1.1.0)))))
row-moves n s s' t u (from_arrow {w = w} m l ps qs ds ts us x fresh moved) h k = inl (inr (inr (inr (in_arrow fresh (parameters-move w x ps qs l ds ts us moved h.1.0 k.1.0 k.1.1.0)))))
row-moves n s s' t u (from_value m ps e x value apart) h k = inr (returns x)
