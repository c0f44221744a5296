-- Whether the body of a function, or a static block, clashes asks for no mark and no id.
use Rattle.std.proofs.Common.{◌≡◌, ◌&&◌, not, refl}
use Rattle.es_tree.specs.Bare.{bare, bare_fields, bare_trees}
use Rattle.es_tree.specs.Tree.{Tree, node, Fields, done, ◌then◌, many, one, statements, Trees, empty}
use Rattle.es_tree.specs.declared.ast_type.AstType.{AstType}
use Rattle.es_tree.specs.declared.ast_type.AstType.TheVariants.{ArrowFunctionExpression, FunctionBody, FunctionDeclaration, FunctionExpression, StaticBlock}
use Rattle.es_using_nodes.specs.Clashes.{clashes, clashes_in_arrow, clashes_in_body, clashes_in_function, clashes_in_static_block}
use Rattle.es_using_rows.proofs.UsedAlike.{all-enter-bare, has-bare}

body-bare : (ps : Trees) (b : Tree) → clashes_in_body (bare_trees ps) (bare b) ≡ clashes_in_body ps b
body-bare ps (node FunctionBody l (many ds then statements ts then done)) = λ i. has-bare ts i && not (all-enter-bare ps ts ts i)
body-bare ps _ = refl

function-bare : (fs : Fields) → clashes_in_function (bare_fields fs) ≡ clashes_in_function fs
function-bare (f then many ps then one b then done) = body-bare ps b
function-bare _ = refl

arrow-bare : (fs : Fields) → clashes_in_arrow (bare_fields fs) ≡ clashes_in_arrow fs
arrow-bare (many ps then one b then done) = body-bare ps b
arrow-bare _ = refl

static-bare : (fs : Fields) → clashes_in_static_block (bare_fields fs) ≡ clashes_in_static_block fs
static-bare (statements ts then done) = λ i. has-bare ts i && not (all-enter-bare empty ts ts i)
static-bare _ = refl

pub clashes-bare : (k : AstType) (fs : Fields) → clashes k (bare_fields fs) ≡ clashes k fs
clashes-bare FunctionDeclaration fs = function-bare fs
clashes-bare FunctionExpression fs = function-bare fs
clashes-bare ArrowFunctionExpression fs = arrow-bare fs
clashes-bare StaticBlock fs = static-bare fs
clashes-bare _ fs = refl
