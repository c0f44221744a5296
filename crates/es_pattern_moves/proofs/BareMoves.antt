-- Ids and marks mean nothing to the test that says which patterns move.
use Rattle.std.proofs.Common.{◌≡◌, ◌∙◌, ℕ, zero, suc, refl, sym, ap, List, [], ◌∷◌, ◌++◌}
use Rattle.std.specs.Prelude.{Bool, true, false, ◌||◌, ◌&&◌, not, bytes_eq, codes}
use Rattle.std.specs.List.{list_any}
use Rattle.es_tree.specs.Bare.{bare, bare_field, bare_fields, bare_label, bare_trees}
use Rattle.es_tree.specs.BoundNames.{bound_identifiers, bound_in_field, bound_in_fields, bound_in_first, bound_in_second, bound_in_trees}
use Rattle.es_tree.specs.Names.{first_text, is_name_place}
use Rattle.es_tree.specs.Tree.{Tree, node, Label, Fields, done, ◌then◌, Field, missing, one, many, statements, Trees, empty, ◌before◌, label_of}
use Rattle.es_tree.specs.Walks.{any_in_field, any_in_fields, any_in_trees, any_node}
use Rattle.es_tree.specs.Words.{Text}
use Rattle.es_tree.specs.declared.ast_type.AstType.{AstType}
use Rattle.es_tree.specs.declared.ast_type.AstType.TheVariants.{ArrayPattern, ArrowFunctionExpression, AssignmentPattern, CatchClause, ClassDeclaration, ForInStatement, ForOfStatement, FunctionBody, FunctionDeclaration, FunctionExpression, Identifier, MemberExpression, MethodDefinition, ObjectPattern, ObjectProperty, ObjectTarget, PatternProperty, PropertyDefinition, RestElement, TargetProperty, VariableDeclaration, VariableDeclarator}
use Rattle.es_resolution.specs.Declarations.{is_var_scope}
use Rattle.es_steps.specs.Nodes.{joined_trees}
use Rattle.es_pattern_moves.specs.Laws.{LawBareMoves}
use Rattle.es_pattern_moves.specs.PatternMoves.{
  all_may_move,
  all_move,
  are_later,
  binds_let,
  body_declares,
  declared_later,
  declarator_declares,
  default_apart,
  is_later,
  is_rest_parameter,
  is_var,
  may_move,
  meets,
  meets_among,
  moves_from_arrow,
  moves_from_catch,
  moves_from_function,
  moves_from_head,
  moves_pattern,
  moves_with_body,
  own_stands,
  pattern_of,
  stands_among,
  stands_if,
  stands_in_field,
  stands_in_fields,
  top_declares,
  var_among,
  var_declares,
  var_here,
  var_in_field,
  var_in_fields,
}
use Rattle.es_rest_rows.specs.RestRows.{binds_name}
use Rattle.es_rest_shapes.specs.RestShapes.{is_plain_pattern}
use Rattle.es_rest_shapes.proofs.BareRests.{bears-bare, name-bare, plain-bare, trees-bare}

-- LISTS

joined-bare : (a c : Trees) → joined_trees (bare_trees a) (bare_trees c) ≡ bare_trees (joined_trees a c)
joined-bare empty c = refl
joined-bare (t before a) c = ap (λ ts. bare t before ts) (joined-bare a c)

-- NAMES THAT A PATTERN BINDS

module _ (x : Text) where
  abbrev has_it : Tree → Bool
  has_it t = bytes_eq (first_text (label_of t).texts) x

  any-append : (ts us : List Tree) → list_any has_it (ts ++ us) ≡ (list_any has_it ts || list_any has_it us)
  any-append [] us = refl
  any-append (t ∷ ts) us = at (has_it t) (any-append ts us)
    where
      at : (b : Bool) → list_any has_it (ts ++ us) ≡ (list_any has_it ts || list_any has_it us) → (b || list_any has_it (ts ++ us)) ≡ ((b || list_any has_it ts) || list_any has_it us)
      at true later = refl
      at false later = later

  both-bare : (ts us vs ws : List Tree) → list_any has_it vs ≡ list_any has_it ts → list_any has_it ws ≡ list_any has_it us → list_any has_it (vs ++ ws) ≡ list_any has_it (ts ++ us)
  both-bare ts us vs ws e d = any-append vs ws ∙ (λ i. e i || d i) ∙ sym (any-append ts us)

  mutual
    pub binds-bare : (t : Tree) → list_any has_it (bound_identifiers (bare t)) ≡ list_any has_it (bound_identifiers t)
    binds-bare (node Identifier l fs) = refl
    binds-bare (node ObjectPattern l fs) = first-binds fs
    binds-bare (node PatternProperty l fs) = second-binds fs
    binds-bare (node ArrayPattern l fs) = in-binds fs
    binds-bare (node AssignmentPattern l fs) = first-binds fs
    binds-bare (node RestElement l fs) = first-binds fs
    binds-bare (node _ l fs) = refl

    first-binds : (fs : Fields) → list_any has_it (bound_in_first (bare_fields fs)) ≡ list_any has_it (bound_in_first fs)
    first-binds done = refl
    first-binds (f then fs) = by-binds f

    second-binds : (fs : Fields) → list_any has_it (bound_in_second (bare_fields fs)) ≡ list_any has_it (bound_in_second fs)
    second-binds done = refl
    second-binds (f then fs) = first-binds fs

    in-binds : (fs : Fields) → list_any has_it (bound_in_fields (bare_fields fs)) ≡ list_any has_it (bound_in_fields fs)
    in-binds done = refl
    in-binds (f then fs) = both-bare (bound_in_field f) (bound_in_fields fs) (bound_in_field (bare_field f)) (bound_in_fields (bare_fields fs)) (by-binds f) (in-binds fs)

    by-binds : (f : Field) → list_any has_it (bound_in_field (bare_field f)) ≡ list_any has_it (bound_in_field f)
    by-binds missing = refl
    by-binds (one t) = binds-bare t
    by-binds (many ts) = all-binds ts
    by-binds (statements ts) = all-binds ts

    all-binds : (ts : Trees) → list_any has_it (bound_in_trees (bare_trees ts)) ≡ list_any has_it (bound_in_trees ts)
    all-binds empty = refl
    all-binds (t before ts) = both-bare (bound_identifiers t) (bound_in_trees ts) (bound_identifiers (bare t)) (bound_in_trees (bare_trees ts)) (binds-bare t) (all-binds ts)

-- NAMES THAT STAND in a tree

pub place-bare : (k : AstType) (l : Label) (n : ℕ) → is_name_place k (bare_label l) n ≡ is_name_place k l n
place-bare MemberExpression l (suc zero) = refl
place-bare MethodDefinition l zero = refl
place-bare PropertyDefinition l zero = refl
place-bare ObjectProperty l zero = refl
place-bare PatternProperty l zero = refl
place-bare TargetProperty l zero = refl
place-bare k l n = refl

own-bare : (test : Text → Bool) (counts : Bool) (k : AstType) (l : Label) → own_stands test counts k (bare_label l) ≡ own_stands test counts k l
own-bare test true Identifier l = refl
own-bare test counts k l = refl

module _ (test : Text → Bool) where
  mutual
    stands-bare : (counts : Bool) (t : Tree) → stands_if test counts (bare t) ≡ stands_if test counts t
    stands-bare counts (node k l fs) =
        let same : stands_in_fields test (is_name_place k (bare_label l)) (bare_fields fs) ≡ stands_in_fields test (is_name_place k l) fs = ap (λ (c : ℕ → Bool). stands_in_fields test c (bare_fields fs)) (λ i n. place-bare k l n i) ∙ in-bare (is_name_place k l) fs in
        λ i. own-bare test counts k l i || same i

    in-bare : (counts : ℕ → Bool) (fs : Fields) → stands_in_fields test counts (bare_fields fs) ≡ stands_in_fields test counts fs
    in-bare counts done = refl
    in-bare counts (f then fs) = λ i. by-bare (counts zero) f i || in-bare (λ n. counts (suc n)) fs i

    by-bare : (counts : Bool) (f : Field) → stands_in_field test counts (bare_field f) ≡ stands_in_field test counts f
    by-bare counts missing = refl
    by-bare counts (one t) = stands-bare counts t
    by-bare counts (many ts) = among-bare ts
    by-bare counts (statements ts) = among-bare ts

    among-bare : (ts : Trees) → stands_among test (bare_trees ts) ≡ stands_among test ts
    among-bare empty = refl
    among-bare (t before ts) = λ i. stands-bare true t i || among-bare ts i

pub meets-bare : (p t : Tree) → meets (bare p) (bare t) ≡ meets p t
meets-bare p t = ap (λ (test : Text → Bool). stands_if test true (bare t)) (λ i x. binds-bare x p i) ∙ stands-bare (λ x. binds_name x p) true t

meets-among-bare : (p : Tree) (ts : Trees) → meets_among (bare p) (bare_trees ts) ≡ meets_among p ts
meets-among-bare p ts = ap (λ (test : Text → Bool). stands_among test (bare_trees ts)) (λ i x. binds-bare x p i) ∙ among-bare (λ x. binds_name x p) ts

-- WHAT A BODY DECLARES

declarator-bare : (x : Text) (t : Tree) → declarator_declares x (bare t) ≡ declarator_declares x t
declarator-bare x (node VariableDeclarator l (one p then fs)) = binds-bare x p
declarator-bare x (node VariableDeclarator l (missing then fs)) = refl
declarator-bare x (node VariableDeclarator l (many ts then fs)) = refl
declarator-bare x (node VariableDeclarator l (statements ts then fs)) = refl
declarator-bare x (node VariableDeclarator l done) = refl
declarator-bare x (node _ l fs) = refl

top-bare : (x : Text) (t : Tree) → top_declares x (bare t) ≡ top_declares x t
top-bare x (node VariableDeclaration l (many ds then fs)) = trees-bare (declarator_declares x) (declarator-bare x) ds
top-bare x (node VariableDeclaration l (missing then fs)) = refl
top-bare x (node VariableDeclaration l (one t then fs)) = refl
top-bare x (node VariableDeclaration l (statements ts then fs)) = refl
top-bare x (node VariableDeclaration l done) = refl
top-bare x (node FunctionDeclaration l (one (node k m gs) then fs)) = refl
top-bare x (node FunctionDeclaration l (missing then fs)) = refl
top-bare x (node FunctionDeclaration l (many ts then fs)) = refl
top-bare x (node FunctionDeclaration l (statements ts then fs)) = refl
top-bare x (node FunctionDeclaration l done) = refl
top-bare x (node ClassDeclaration l (one (node k m gs) then fs)) = refl
top-bare x (node ClassDeclaration l (missing then fs)) = refl
top-bare x (node ClassDeclaration l (many ts then fs)) = refl
top-bare x (node ClassDeclaration l (statements ts then fs)) = refl
top-bare x (node ClassDeclaration l done) = refl
top-bare x (node _ l fs) = refl

here-bare : (x : Text) (k : AstType) (l : Label) (fs : Fields) → var_here x k (bare_label l) (bare_fields fs) ≡ var_here x k l fs
here-bare x VariableDeclaration l (many ds then fs) = ap (λ b. is_var l && b) (trees-bare (declarator_declares x) (declarator-bare x) ds)
here-bare x VariableDeclaration l (missing then fs) = refl
here-bare x VariableDeclaration l (one t then fs) = refl
here-bare x VariableDeclaration l (statements ts then fs) = refl
here-bare x VariableDeclaration l done = refl
here-bare x FunctionDeclaration l (one (node k m gs) then fs) = refl
here-bare x FunctionDeclaration l (missing then fs) = refl
here-bare x FunctionDeclaration l (many ts then fs) = refl
here-bare x FunctionDeclaration l (statements ts then fs) = refl
here-bare x FunctionDeclaration l done = refl
here-bare x _ l fs = refl

module _ (x : Text) where
  mutual
    pub vars-bare : (t : Tree) → var_declares x (bare t) ≡ var_declares x t
    vars-bare (node k l fs) = λ i. not (is_var_scope k) && (here-bare x k l fs i || vars-bare-in fs i)

    vars-bare-in : (fs : Fields) → var_in_fields x (bare_fields fs) ≡ var_in_fields x fs
    vars-bare-in done = refl
    vars-bare-in (f then fs) = λ i. vars-bare-by f i || vars-bare-in fs i

    vars-bare-by : (f : Field) → var_in_field x (bare_field f) ≡ var_in_field x f
    vars-bare-by missing = refl
    vars-bare-by (one t) = vars-bare t
    vars-bare-by (many ts) = vars-bare-all ts
    vars-bare-by (statements ts) = vars-bare-all ts

    vars-bare-all : (ts : Trees) → var_among x (bare_trees ts) ≡ var_among x ts
    vars-bare-all empty = refl
    vars-bare-all (t before ts) = λ i. vars-bare t i || vars-bare-all ts i

body-bare : (ts : Trees) (x : Text) → body_declares (bare_trees ts) x ≡ body_declares ts x
body-bare ts x = λ i. trees-bare (top_declares x) (top-bare x) ts i || vars-bare-all x ts i

let-bare : (p : Tree) → binds_let (bare p) ≡ binds_let p
let-bare p = binds-bare (codes "let") p

later-declared-bare : (c ts : Trees) (x : Text) → declared_later (bare_trees c) (bare_trees ts) x ≡ declared_later c ts x
later-declared-bare c ts x = λ i. trees-bare (binds_name x) (binds-bare x) c i || body-bare ts x i

-- PARAMETERS

pub parameter-bare : (t : Tree) → is_rest_parameter (bare t) ≡ is_rest_parameter t
parameter-bare (node AssignmentPattern l (one p then one d then done)) = plain-bare p
parameter-bare (node AssignmentPattern l (one p then one d then f then fs)) = refl
parameter-bare (node AssignmentPattern l (one p then missing then fs)) = refl
parameter-bare (node AssignmentPattern l (one p then many ts then fs)) = refl
parameter-bare (node AssignmentPattern l (one p then statements ts then fs)) = refl
parameter-bare (node AssignmentPattern l (one p then done)) = refl
parameter-bare (node AssignmentPattern l (missing then fs)) = refl
parameter-bare (node AssignmentPattern l (many ts then fs)) = refl
parameter-bare (node AssignmentPattern l (statements ts then fs)) = refl
parameter-bare (node AssignmentPattern l done) = refl
parameter-bare (node ObjectPattern l fs) = plain-bare (node ObjectPattern l fs)
parameter-bare (node _ l fs) = refl

pub pattern-bare : (t : Tree) → pattern_of (bare t) ≡ bare (pattern_of t)
pattern-bare (node AssignmentPattern l (one p then fs)) = refl
pattern-bare (node AssignmentPattern l (missing then fs)) = refl
pattern-bare (node AssignmentPattern l (many ts then fs)) = refl
pattern-bare (node AssignmentPattern l (statements ts then fs)) = refl
pattern-bare (node AssignmentPattern l done) = refl
pattern-bare (node _ l fs) = refl

default-bare : (t : Tree) → default_apart (bare t) ≡ default_apart t
default-bare (node AssignmentPattern l (one p then one d then done)) = ap not (meets-bare p d)
default-bare (node AssignmentPattern l (one p then one d then f then fs)) = refl
default-bare (node AssignmentPattern l (one p then missing then fs)) = refl
default-bare (node AssignmentPattern l (one p then many ts then fs)) = refl
default-bare (node AssignmentPattern l (one p then statements ts then fs)) = refl
default-bare (node AssignmentPattern l (one p then done)) = refl
default-bare (node AssignmentPattern l (missing then fs)) = refl
default-bare (node AssignmentPattern l (many ts then fs)) = refl
default-bare (node AssignmentPattern l (statements ts then fs)) = refl
default-bare (node AssignmentPattern l done) = refl
default-bare (node _ l fs) = refl

later-bare : (t : Tree) → is_later (bare t) ≡ is_later t
later-bare (node RestElement l (one t then done)) = name-bare t
later-bare (node RestElement l (one t then f then fs)) = refl
later-bare (node RestElement l (missing then fs)) = refl
later-bare (node RestElement l (many ts then fs)) = refl
later-bare (node RestElement l (statements ts then fs)) = refl
later-bare (node RestElement l done) = refl
later-bare (node Identifier l done) = refl
later-bare (node Identifier l (f then fs)) = refl
later-bare (node ObjectPattern l fs) = plain-bare (node ObjectPattern l fs)
later-bare (node _ l fs) = refl

are-later-bare : (ts : Trees) → are_later (bare_trees ts) ≡ are_later ts
are-later-bare empty = refl
are-later-bare (t before ts) = λ i. later-bare t i && are-later-bare ts i

may-bare : (a : Trees) (t : Tree) (c ts : Trees) → may_move (bare_trees a) (bare t) (bare_trees c) (bare_trees ts) ≡ may_move a t c ts
may-bare a t c ts =
    let p : Tree = pattern_of t in
    let earlier : meets_among (pattern_of (bare t)) (bare_trees a) ≡ meets_among p a = ap (λ q. meets_among q (bare_trees a)) (pattern-bare t) ∙ meets-among-bare p a in
    let later : meets_among (pattern_of (bare t)) (bare_trees c) ≡ meets_among p c = ap (λ q. meets_among q (bare_trees c)) (pattern-bare t) ∙ meets-among-bare p c in
    let word : binds_let (pattern_of (bare t)) ≡ binds_let p = ap binds_let (pattern-bare t) ∙ let-bare p in
    let declared : stands_if (declared_later (bare_trees c) (bare_trees ts)) true (pattern_of (bare t)) ≡ stands_if (declared_later c ts) true p =
    ap (λ q. stands_if (declared_later (bare_trees c) (bare_trees ts)) true q) (pattern-bare t) ∙ ap (λ (test : Text → Bool). stands_if test true (bare p)) (λ i x. later-declared-bare c ts x i) ∙ stands-bare (declared_later c ts) true p in
    λ i. are-later-bare c i && not (earlier i) && not (later i) && default-bare t i && not (word i) && not (declared i)

all-may-bare : (a ps ts : Trees) → all_may_move (bare_trees a) (bare_trees ps) (bare_trees ts) ≡ all_may_move a ps ts
all-may-bare a empty ts = refl
all-may-bare a (t before c) ts =
    let rest : all_may_move (joined_trees (bare_trees a) (bare t before empty)) (bare_trees c) (bare_trees ts) ≡ all_may_move (joined_trees a (t before empty)) c ts =
    ap (λ b. all_may_move b (bare_trees c) (bare_trees ts)) (joined-bare a (t before empty)) ∙ all-may-bare (joined_trees a (t before empty)) c ts in
    λ i. (not (parameter-bare t i) || may-bare a t c ts i) && rest i

some-bare : (ps ts : Trees) → all_move (bare_trees ps) (bare_trees ts) ≡ all_move ps ts
some-bare ps ts = λ i. trees-bare is_rest_parameter parameter-bare ps i && all-may-bare empty ps ts i

-- NODES: what moves out of the one moves out of the other

pub same-bools : (a b : Bool) → (a ≡ true → b ≡ true) → (b ≡ true → a ≡ true) → a ≡ b
same-bools true b f g = sym (f refl)
same-bools false true f g = g refl
same-bools false false f g = refl

with-body-bare : (ps : Trees) (b : Tree) → moves_with_body (bare_trees ps) (bare b) ≡ moves_with_body ps b
with-body-bare ps b = same-bools (moves_with_body (bare_trees ps) (bare b)) (moves_with_body ps b) (from b) (to b)
  where
    to : (b : Tree) → moves_with_body ps b ≡ true → moves_with_body (bare_trees ps) (bare b) ≡ true
    to (node FunctionBody l (many ds then statements ts then done)) h = some-bare ps ts ∙ h
    to (node FunctionBody l fs) h = absurd (cc h)
    to e h = some-bare ps (e before empty) ∙ h

    from : (b : Tree) → moves_with_body (bare_trees ps) (bare b) ≡ true → moves_with_body ps b ≡ true
    from (node FunctionBody l (many ds then statements ts then done)) h = sym (some-bare ps ts) ∙ h
    from (node FunctionBody l fs) h = absurd (cc h)
    from e h = sym (some-bare ps (e before empty)) ∙ h

catch-bare : (fs : Fields) → moves_from_catch (bare_fields fs) ≡ moves_from_catch fs
catch-bare fs = same-bools (moves_from_catch (bare_fields fs)) (moves_from_catch fs) (from fs) (to fs)
  where
    same : (p : Tree) → (is_plain_pattern (bare p) && not (binds_let (bare p))) ≡ (is_plain_pattern p && not (binds_let p))
    same p = λ i. plain-bare p i && not (let-bare p i)

    to : (fs : Fields) → moves_from_catch fs ≡ true → moves_from_catch (bare_fields fs) ≡ true
    to (one p then one b then done) h = same p ∙ h
    to _ h = absurd (cc h)

    from : (fs : Fields) → moves_from_catch (bare_fields fs) ≡ true → moves_from_catch fs ≡ true
    from (one p then one b then done) h = sym (same p) ∙ h
    from _ h = absurd (cc h)

head-bare : (fs : Fields) → moves_from_head (bare_fields fs) ≡ moves_from_head fs
head-bare fs = same-bools (moves_from_head (bare_fields fs)) (moves_from_head fs) (from fs) (to fs)
  where
    same : (l : Label) (p e : Tree) → (is_plain_pattern (bare p) && (is_var l || not (meets (bare p) (bare e)))) ≡ (is_plain_pattern p && (is_var l || not (meets p e)))
    same l p e = λ i. plain-bare p i && (is_var l || not (meets-bare p e i))

    to : (fs : Fields) → moves_from_head fs ≡ true → moves_from_head (bare_fields fs) ≡ true
    to (one (node VariableDeclaration l (many (node VariableDeclarator m (one p then missing then done) before empty) then done)) then one e then one b then done) h = same l p e ∙ h
    to (one (node ObjectTarget l gs) then one e then one b then done) h = bears-bare (node ObjectTarget l gs) ∙ h
    to _ h = absurd (cc h)

    from : (fs : Fields) → moves_from_head (bare_fields fs) ≡ true → moves_from_head fs ≡ true
    from (one (node VariableDeclaration l (many (node VariableDeclarator m (one p then missing then done) before empty) then done)) then one e then one b then done) h = sym (same l p e) ∙ h
    from (one (node ObjectTarget l gs) then one e then one b then done) h = sym (bears-bare (node ObjectTarget l gs)) ∙ h
    from _ h = absurd (cc h)

function-bare : (fs : Fields) → moves_from_function (bare_fields fs) ≡ moves_from_function fs
function-bare fs = same-bools (moves_from_function (bare_fields fs)) (moves_from_function fs) (from fs) (to fs)
  where
    to : (fs : Fields) → moves_from_function fs ≡ true → moves_from_function (bare_fields fs) ≡ true
    to (f then many ps then one b then done) h = with-body-bare ps b ∙ h
    to _ h = absurd (cc h)

    from : (fs : Fields) → moves_from_function (bare_fields fs) ≡ true → moves_from_function fs ≡ true
    from (f then many ps then one b then done) h = sym (with-body-bare ps b) ∙ h
    from _ h = absurd (cc h)

arrow-bare : (fs : Fields) → moves_from_arrow (bare_fields fs) ≡ moves_from_arrow fs
arrow-bare fs = same-bools (moves_from_arrow (bare_fields fs)) (moves_from_arrow fs) (from fs) (to fs)
  where
    to : (fs : Fields) → moves_from_arrow fs ≡ true → moves_from_arrow (bare_fields fs) ≡ true
    to (many ps then one b then done) h = with-body-bare ps b ∙ h
    to _ h = absurd (cc h)

    from : (fs : Fields) → moves_from_arrow (bare_fields fs) ≡ true → moves_from_arrow fs ≡ true
    from (many ps then one b then done) h = sym (with-body-bare ps b) ∙ h
    from _ h = absurd (cc h)

pub moves-bare : (k : AstType) (l : Label) (fs : Fields) → moves_pattern k (bare_label l) (bare_fields fs) ≡ moves_pattern k l fs
moves-bare CatchClause l fs = catch-bare fs
moves-bare ForInStatement l fs = head-bare fs
moves-bare ForOfStatement l fs = head-bare fs
moves-bare FunctionDeclaration l fs = function-bare fs
moves-bare FunctionExpression l fs = function-bare fs
moves-bare ArrowFunctionExpression l fs = arrow-bare fs
moves-bare _ l fs = refl

-- EVERY NODE

mutual
  nodes-bare : (t : Tree) → any_node moves_pattern (bare t) ≡ any_node moves_pattern t
  nodes-bare (node k l fs) = λ i. moves-bare k l fs i || nodes-bare-in fs i

  nodes-bare-in : (fs : Fields) → any_in_fields moves_pattern (bare_fields fs) ≡ any_in_fields moves_pattern fs
  nodes-bare-in done = refl
  nodes-bare-in (f then fs) = λ i. nodes-bare-by f i || nodes-bare-in fs i

  nodes-bare-by : (f : Field) → any_in_field moves_pattern (bare_field f) ≡ any_in_field moves_pattern f
  nodes-bare-by missing = refl
  nodes-bare-by (one t) = nodes-bare t
  nodes-bare-by (many ts) = nodes-bare-all ts
  nodes-bare-by (statements ts) = nodes-bare-all ts

  nodes-bare-all : (ts : Trees) → any_in_trees moves_pattern (bare_trees ts) ≡ any_in_trees moves_pattern ts
  nodes-bare-all empty = refl
  nodes-bare-all (t before ts) = λ i. nodes-bare t i || nodes-bare-all ts i

pub law_bare_moves_proof : LawBareMoves
law_bare_moves_proof t u e = sym (nodes-bare t) ∙ ap (λ (x : Tree). any_node moves_pattern x) e ∙ nodes-bare u
