-- What holds no `using` is no loop whose head asks a name that is declared so, and no function or static block that clashes.
use Rattle.std.proofs.Common.{◌≡◌, refl, ap, List, [], ◌∷◌, Option, Some, bytes_eq, codes}
use Rattle.std.specs.Prelude.{false, ◌&&◌, not}
use Rattle.std.proofs.lemmas.Bool.{or_from, or_parts}
use Rattle.es_tree.specs.Constructs.{is_using}
use Rattle.es_tree.specs.Names.{first_text}
use Rattle.es_tree.specs.Tree.{Tree, node, Label, Fields, done, ◌then◌, missing, one, many, statements, Trees, empty, ◌before◌}
use Rattle.es_tree.specs.Walks.{any_in_field, any_in_fields, any_in_trees, any_node}
use Rattle.es_tree.specs.Words.{Text}
use Rattle.es_tree.specs.declared.ast_type.AstType.{AstType}
use Rattle.es_tree.specs.declared.ast_type.AstType.TheVariants.{ArrowFunctionExpression, ForOfStatement, FunctionBody, FunctionDeclaration, FunctionExpression, StaticBlock, VariableDeclaration, VariableDeclarator}
use Rattle.es_steps.specs.UsingBlocks.{has_using}
use Rattle.es_rest_shapes.specs.RestShapes.{is_name}
use Rattle.es_pattern_moves.specs.PatternMoves.{meets}
use Rattle.es_using_rows.specs.UsingPlaces.{is_using_word, may_enter}
use Rattle.es_using_heads.specs.Heads.{asks_from_head, asks_its_name}
use Rattle.es_using_nodes.specs.Clashes.{clashes, clashes_in_arrow, clashes_in_body, clashes_in_function, clashes_in_static_block}

-- HEADS

word-none : (ts : List (Option Text)) → bytes_eq (first_text ts) (codes "using") ≡ false → is_using_word ts ≡ false
word-none (Some x ∷ []) h = h
word-none _ h = refl

head-none : (fs : Fields) → any_in_fields is_using fs ≡ false → asks_from_head fs ≡ false
head-none (one (node VariableDeclaration l (many (node VariableDeclarator k (one x then missing then done) before empty) then done)) then one e then one b then done) h =
    let gs : Fields = many (node VariableDeclarator k (one x then missing then done) before empty) then done in
    let own = or_parts (any_node is_using (node VariableDeclaration l gs)) (any_in_fields is_using (one e then one b then done)) h in
    ap (λ c. c && is_name x && meets x e) (word-none l.texts (or_parts (is_using VariableDeclaration l gs) (any_in_fields is_using gs) own.0).0)
head-none _ h = refl

pub asks-none : (k : AstType) (l : Label) (fs : Fields) → any_in_fields is_using fs ≡ false → asks_its_name k l fs ≡ false
asks-none ForOfStatement l fs h = head-none fs h
asks-none k l fs h = refl

-- BODIES

has-none : (ts : Trees) → any_in_trees is_using ts ≡ false → has_using ts ≡ false
has-none empty h = refl
has-none (node k l fs before ts) h =
    let g = or_parts (any_node is_using (node k l fs)) (any_in_trees is_using ts) h in
    or_from (is_using k l fs) (has_using ts) (or_parts (is_using k l fs) (any_in_fields is_using fs) g.0).0 (has-none ts g.1)

body-none : (ps : Trees) (b : Tree) → any_node is_using b ≡ false → clashes_in_body ps b ≡ false
body-none ps (node FunctionBody l (many ds then statements ts then done)) h =
    let g = or_parts (any_in_trees is_using ds) (any_in_fields is_using (statements ts then done)) h in
    ap (λ c. c && not (may_enter ps ts)) (has-none ts (or_parts (any_in_trees is_using ts) false g.1).0)
body-none ps _ h = refl

-- of the body alone
last-none : (b : Tree) → any_in_fields is_using (one b then done) ≡ false → any_node is_using b ≡ false
last-none b h = (or_parts (any_node is_using b) false h).0

function-none : (fs : Fields) → any_in_fields is_using fs ≡ false → clashes_in_function fs ≡ false
function-none (f then many ps then one b then done) h =
    let g = or_parts (any_in_field is_using f) (any_in_fields is_using (many ps then one b then done)) h in
    body-none ps b (last-none b (or_parts (any_in_trees is_using ps) (any_in_fields is_using (one b then done)) g.1).1)
function-none _ h = refl

arrow-none : (fs : Fields) → any_in_fields is_using fs ≡ false → clashes_in_arrow fs ≡ false
arrow-none (many ps then one b then done) h = body-none ps b (last-none b (or_parts (any_in_trees is_using ps) (any_in_fields is_using (one b then done)) h).1)
arrow-none _ h = refl

static-none : (fs : Fields) → any_in_fields is_using fs ≡ false → clashes_in_static_block fs ≡ false
static-none (statements ts then done) h = ap (λ c. c && not (may_enter empty ts)) (has-none ts (or_parts (any_in_trees is_using ts) false h).0)
static-none _ h = refl

pub clashes-none : (k : AstType) (fs : Fields) → any_in_fields is_using fs ≡ false → clashes k fs ≡ false
clashes-none FunctionDeclaration fs h = function-none fs h
clashes-none FunctionExpression fs h = function-none fs h
clashes-none ArrowFunctionExpression fs h = arrow-none fs h
clashes-none StaticBlock fs h = static-none fs h
clashes-none _ fs h = refl
