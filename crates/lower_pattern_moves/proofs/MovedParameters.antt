-- Parameters, one more at a time, with the declarations of their patterns.
use Rattle.std.proofs.Common.{◌≡◌, ◌∙◌, ◌++◌, ◌+◌, ◌∷◌, List, [], ap, append-nil, append_assoc, arith, length, refl, subst, suc, sym, ℕ}
use Rattle.std.specs.Prelude.{Bool, false, if◌then◌else◌, true, codes}
use Rattle.es_tree.specs.Tree.{Tree, node, Label, done, ◌then◌, one, many, statements, Trees, empty, ◌before◌, label_of, trees}
use Rattle.es_tree.specs.Views.{plain_field, plain_fields}
use Rattle.es_tree.specs.Words.{Text}
use Rattle.es_tree.specs.declared.ast_type.AstType.TheVariants.{AssignmentPattern, FunctionBody}
use Rattle.es_tree.specs.declared.node.Field.{Field as NodeField}
use Rattle.es_tree.specs.declared.node.Field.TheVariants.{Many, One}
use Rattle.std.specs.declared.alloc.Global.{Global}
use Rattle.std.specs.declared.vec.Vec.{Vec}
use Rattle.es_scope.specs.declared.uids.UidGenerator.{UidGenerator}
use Rattle.es_steps.specs.Nodes.{joined_trees}
use Rattle.es_pattern_moves.specs.Moved.{Makes, all_declared, all_named, count_rests, declares, named, name_of, plainly, with_declared}
use Rattle.es_pattern_moves.specs.PatternMoves.{is_rest_parameter, pattern_of}
use Rattle.lower_pattern_moves.specs.Moves.{MakesNames, MovesAs}
use Rattle.lower_fresh_names.specs.Names.{name_with}
use Rattle.lower_pattern_moves.specs.Parts.{AddsParameter, body_with, declaration_with, moved_function_fields, moved_parameters, moved_with_body, named_by, return_with, returning_with, with_first}
use Rattle.lower_pattern_moves.proofs.Lists.{trees-joined}
use Rattle.lower_pattern_moves.proofs.Moving.{moves-none, moves-one, moves-part, moves-plain-part, moves-then}

-- ONE AFTER THE OTHER

count-joined : (ts us : Trees) → count_rests (joined_trees ts us) ≡ count_rests ts + count_rests us
count-joined empty us = omega arith
count-joined (t before ts) us = by-test (is_rest_parameter t) (count_rests (joined_trees ts us)) (count_rests ts) (count_rests us) (count-joined ts us)
  where
    by-test : (b : Bool) (j n k : ℕ) → j ≡ n + k → (if b then suc j else j) ≡ (if b then suc n else n) + k
    by-test true j n k e = omega (arith, e)
    by-test false j n k e = e

-- with one more, by whether it is such a pattern
count-on : (n : ℕ) (ts : Trees) → n + suc (count_rests ts) ≡ suc n + count_rests ts
count-on n ts = omega arith

named-by-test : (m : Makes) (n : ℕ) (t : Tree) (ts us : Trees) (b : Bool) → all_named m (suc n) (joined_trees ts us) ≡ joined_trees (all_named m (suc n) ts) (all_named m (suc n + count_rests ts) us) → all_named m n (joined_trees ts us) ≡ joined_trees (all_named m n ts) (all_named m (n + count_rests ts) us) →
    (if b then named m n t before all_named m (suc n) (joined_trees ts us) else t before all_named m n (joined_trees ts us)) ≡ joined_trees (if b then named m n t before all_named m (suc n) ts else t before all_named m n ts) (all_named m (n + (if b then suc (count_rests ts) else count_rests ts)) us)
named-by-test m n t ts us true more same = ap (λ vs. named m n t before vs) (more ∙ ap (λ k. joined_trees (all_named m (suc n) ts) (all_named m k us)) (sym (count-on n ts)))
named-by-test m n t ts us false more same = ap (λ vs. t before vs) same

named-joined : (m : Makes) (n : ℕ) (ts us : Trees) → all_named m n (joined_trees ts us) ≡ joined_trees (all_named m n ts) (all_named m (n + count_rests ts) us)
named-joined m n empty us = ap (λ k. all_named m k us) (omega arith)
named-joined m n (t before ts) us = named-by-test m n t ts us (is_rest_parameter t) (named-joined m (suc n) ts us) (named-joined m n ts us)

declared-by-test : (m : Makes) (n : ℕ) (d : Tree) (ts us : Trees) (b : Bool) → all_declared m (suc n) (joined_trees ts us) ≡ joined_trees (all_declared m (suc n) ts) (all_declared m (suc n + count_rests ts) us) → all_declared m n (joined_trees ts us) ≡ joined_trees (all_declared m n ts) (all_declared m (n + count_rests ts) us) →
    (if b then d before all_declared m (suc n) (joined_trees ts us) else all_declared m n (joined_trees ts us)) ≡ joined_trees (if b then d before all_declared m (suc n) ts else all_declared m n ts) (all_declared m (n + (if b then suc (count_rests ts) else count_rests ts)) us)
declared-by-test m n d ts us true more same = ap (λ vs. d before vs) (more ∙ ap (λ k. joined_trees (all_declared m (suc n) ts) (all_declared m k us)) (sym (count-on n ts)))
declared-by-test m n d ts us false more same = same

declared-joined : (m : Makes) (n : ℕ) (ts us : Trees) → all_declared m n (joined_trees ts us) ≡ joined_trees (all_declared m n ts) (all_declared m (n + count_rests ts) us)
declared-joined m n empty us = ap (λ k. all_declared m k us) (omega arith)
declared-joined m n (t before ts) us = declared-by-test m n (declares m (codes "let") n (pattern_of t)) ts us (is_rest_parameter t) (declared-joined m (suc n) ts us) (declared-joined m n ts us)

abbrev joined_pair : Trees × Trees → Trees × Trees → Trees × Trees
joined_pair p q = (joined_trees p.0 q.0, joined_trees p.1 q.1)

parameters-joined : (m : Makes) (n : ℕ) (ts us : Trees) → moved_parameters m n (joined_trees ts us) ≡ ((moved_parameters m (moved_parameters m n ts).0 us).0, joined_pair (moved_parameters m n ts).1 (moved_parameters m (moved_parameters m n ts).0 us).1)
parameters-joined m n ts us =
    let on : n + count_rests (joined_trees ts us) ≡ n + count_rests ts + count_rests us = omega (arith, count-joined ts us) in
    λ i. (on i, (named-joined m n ts us i, declared-joined m n ts us i))

-- so far, of these parameters, those that come yet
pub record ParametersSoFar (a b : UidGenerator) (all named declared rest : List Tree) : Type 0 where
  pub seen : List Tree
  pub whole : all ≡ seen ++ rest
  pub moves : MovesAs moved_parameters a b (trees seen) (trees named, trees declared)

pub parameters-none : (a : UidGenerator) (all : List Tree) → ParametersSoFar a a all [] [] all
parameters-none a all = record { seen = []; whole = refl; moves = moves-none moved_parameters a empty (empty, empty) (λ m n. ap (λ k. (k, (empty, empty))) (omega arith)) }

pub parameters-next : {a b c : UidGenerator} {all named named' declared declared' rest : List Tree} (t : Tree) → AddsParameter b c t named named' declared declared' → ParametersSoFar a b all named declared (t ∷ rest) → ParametersSoFar a c all named' declared' rest
parameters-next {a} {b} {c} {all} {named} {named'} {declared} {declared'} {rest} t s h =
    let front : trees named' ≡ joined_trees (trees named) (trees s.parameters) = ap trees s.named_is ∙ trees-joined named s.parameters in
    let back : trees declared' ≡ joined_trees (trees declared) (trees s.declarations) = ap trees s.declared_is ∙ trees-joined declared s.declarations in
    let more = moves-then moved_parameters moved_parameters moved_parameters joined_pair (trees (h.seen ++ t ∷ [])) (λ m n. ap (moved_parameters m n) (trees-joined h.seen (t ∷ [])) ∙ parameters-joined m n (trees h.seen) (t before empty)) h.moves s.moves in
    record {
      seen = h.seen ++ t ∷ [];
      whole = h.whole ∙ sym (append_assoc h.seen (t ∷ []) rest);
      moves = subst (λ ds. MovesAs moved_parameters a c (trees (h.seen ++ t ∷ [])) (trees named', ds)) (sym back) (subst (λ us. MovesAs moved_parameters a c (trees (h.seen ++ t ∷ [])) (us, joined_trees (trees declared) (trees s.declarations))) (sym front) more);
    }

pub parameters-all : {a b : UidGenerator} {all named declared : List Tree} (rest : List Tree) → length rest ≡ 0 → ParametersSoFar a b all named declared rest → MovesAs moved_parameters a b (trees all) (trees named, trees declared)
parameters-all {a} {b} {all} {named} {declared} [] ended h = subst (λ ts. MovesAs moved_parameters a b (trees ts) (trees named, trees declared)) (sym (h.whole ∙ append-nil h.seen)) h.moves
parameters-all (t ∷ ts) ended h = absurd (omega (arith, ended))

-- A PARAMETER WITH A REST

named-is : (all : List Text) (n : ℕ) (t : Tree) → named (plainly all) n t ≡ named_by (name_of all n) t
named-is all n (node AssignmentPattern l (one p then fs)) = refl
named-is all n _ = refl

pub adds-rest : (a b : UidGenerator) (t : Tree) (x : Text) (id : ℕ) (renamed declaration : Tree) {ns ns' ds ds' : List Tree} → is_rest_parameter t ≡ true → MakesNames a b (x ∷ []) → id ≡ (label_of (pattern_of t)).id → renamed ≡ named_by x t →
    declaration ≡ declaration_with id (codes "let") (pattern_of t) (one (name_with id x)) → ns' ≡ ns ++ renamed ∷ [] → ds' ≡ ds ++ declaration ∷ [] → AddsParameter a b t ns ns' ds ds'
adds-rest a b t x id renamed declaration h made same is says ns-is ds-is =
    let p = pattern_of t in
    let there : declaration ≡ declaration_with (label_of p).id (codes "let") p (one (name_with (label_of p).id x)) = says ∙ ap (λ i. declaration_with i (codes "let") p (one (name_with i x))) same in
    record {
      parameters = renamed ∷ [];
      declarations = declaration ∷ [];
      named_is = ns-is;
      declared_is = ds-is;
      moves =
          moves-one moved_parameters a b x (t before empty) (renamed before empty, declaration before empty) made
          (λ all n e. ap (λ b. (n + (if b then 1 else 0), ((if b then named (plainly all) n t before empty else t before empty), (if b then declares (plainly all) (codes "let") n p before empty else empty)))) h
          ∙ λ i. (n + 1, ((named-is all n t ∙ (ap (λ y. named_by y t) e ∙ sym is)) i before empty, (ap (λ y. declaration_with (label_of p).id (codes "let") p (one (name_with (label_of p).id y))) e ∙ sym there) i before empty)));
    }

-- THE BODY

with-declared : (all : List Text) (n : ℕ) (ps : Trees) (b : Tree) → with_declared (plainly all) n ps b ≡ with_first (all_declared (plainly all) n ps) b
with-declared all n ps (node FunctionBody l (many ds then statements ts then done)) = refl
with-declared all n ps _ = refl

pub body-moved : (a b : UidGenerator) (body u : Tree) (ps named declared : Trees) → u ≡ with_first declared body → MovesAs moved_parameters a b ps (named, declared) → MovesAs (moved_with_body body) a b ps (named, u)
body-moved a b body u ps named declared is s =
    subst (λ v. MovesAs (moved_with_body body) a b ps (named, v)) (sym is) (moves-plain-part moved_parameters (moved_with_body body) (λ r. (r.0, with_first r.1 body)) ps (λ all n. ap (λ v. (n + count_rests ps, (all_named (plainly all) n ps, v))) (with-declared all n ps body)) s)

pub first-put : (l : Label) (ps : Trees) (ds rest all : List Tree) (body : Tree) → node FunctionBody l (many ps then statements (trees rest) then done) ≡ body → all ≡ ds ++ rest → node FunctionBody l (many ps then statements (trees all) then done) ≡ with_first (trees ds) body
first-put l ps ds rest all body e is = ap (λ ts. node FunctionBody l (many ps then statements ts then done)) (ap trees is ∙ trees-joined ds rest) ∙ ap (with_first (trees ds)) e

pub value-put : (id : ℕ) (ds all : List Tree) (value returned : Tree) → id ≡ (label_of value).id → returned ≡ return_with id value → all ≡ ds ++ returned ∷ [] → body_with id (trees all) ≡ returning_with (label_of value).id (trees ds) value
value-put id ds all value returned same is put =
    ap (body_with id) (ap trees put ∙ trees-joined ds (returned ∷ [])) ∙ (ap (λ r. body_with id (joined_trees (trees ds) (r before empty))) is ∙ ap (λ i. returning_with i (trees ds) value) same)

-- THE FUNCTION

pub function-moved : {a b : UidGenerator} {items moved : List NodeField} {f g h : NodeField} {ps : Trees} {named : Vec Tree Global} {body u : Tree} → items ≡ f ∷ g ∷ h ∷ [] → plain_field g ≡ many ps → plain_field h ≡ one body → moved ≡ f ∷ Many named ∷ One u ∷ [] →
    MovesAs (moved_with_body body) a b ps (trees named.items, u) → MovesAs moved_function_fields a b (plain_fields items) (plain_fields moved)
function-moved {a} {b} {items} {moved} {f} {g} {h} {ps} {named} {body} {u} is params held becomes s =
    let first = plain_field f in
    let was : plain_fields items ≡ (first then many ps then one body then done) = ap plain_fields is ∙ (ap (λ x. first then x then plain_field h then done) params ∙ ap (λ x. first then many ps then x then done) held) in
    subst (λ hs. MovesAs moved_function_fields a b hs (plain_fields moved)) (sym was) (subst (λ hs. MovesAs moved_function_fields a b (first then many ps then one body then done) (plain_fields hs)) (sym becomes)
    (moves-part (moved_with_body body) moved_function_fields (λ r. first then many r.0 then one r.1 then done) (first then many ps then one body then done) (λ m n. refl) s))
