-- Lists of texts: `["a", "b"]`, an array literal (ECMA-262, 13.2.4) of texts alone, and of one at least.
use Rattle.std.specs.Prelude.{Bool, true, false}
use Rattle.es_tree.specs.Tree.{Tree, node, Fields, done, ◌then◌, one}
use Rattle.es_tree.specs.declared.ast_type.AstType.TheVariants.{ArrayExpression, StringLiteral}

abbrev pub are_texts : Fields → Bool
are_texts done = true
are_texts (one (node StringLiteral l done) then fs) = are_texts fs
are_texts _ = false

abbrev pub is_text_list : Tree → Bool
is_text_list (node ArrayExpression l (f then fs)) = are_texts (f then fs)
is_text_list _ = false
