-- Keys of properties whose text stands in the program (ECMA-262, 13.2.5 and 14.3.3): that of a key that isn't computed, of a computed literal and of a
-- template without expressions, as in `["b"]`, `[2]`, `[null]` and `[true]`; any other computed key is read.
use Rattle.std.specs.Prelude.{◌&&◌, not, Bool, true, false, List, [], ◌∷◌, Option, None, Some, codes, is_some, unwrap_or}
use Rattle.es_tree.specs.Names.{first_text, flag_at}
use Rattle.es_tree.specs.Tree.{Tree, node, Fields, done, ◌then◌, many, empty, ◌before◌, label_of}
use Rattle.es_tree.specs.Words.{Text}
use Rattle.es_tree.specs.declared.ast_type.AstType.TheVariants.{BigIntLiteral, BooleanLiteral, NullLiteral, NumericLiteral, StringLiteral, TemplateElement, TemplateLiteral}

abbrev pub second_text : List (Option Text) → Option Text
second_text [] = None
second_text (t ∷ []) = None
second_text (t ∷ u ∷ us) = u

-- the text of a template without expressions, as it is evaluated (13.2.8)
abbrev pub template_text : Fields → Option Text
template_text (many (node TemplateElement l fs before empty) then (many empty then done)) = second_text l.texts
template_text fs = None

abbrev pub boolean_text : Bool → Text
boolean_text true = codes "true"
boolean_text false = codes "false"

-- The text of a literal as a key (13.2.3 and 7.1.19), or of a template that is one: it is evaluated without an effect, and gives the same key each
-- time. A number and a BigInt have two texts: as they stand in the source, and as a key (docs/TREE.md).
abbrev pub literal_text : Tree → Option Text
literal_text (node NullLiteral l fs) = Some (codes "null")
literal_text (node BooleanLiteral l fs) = Some (boolean_text (flag_at 0 l.flags))
literal_text (node NumericLiteral l fs) = second_text l.texts
literal_text (node BigIntLiteral l fs) = second_text l.texts
literal_text (node StringLiteral l fs) = Some (first_text l.texts)
literal_text (node TemplateLiteral l fs) = template_text fs
literal_text _ = None

abbrev pub is_literal_key : Tree → Bool
is_literal_key k = is_some (literal_text k)

-- the text of a key
abbrev pub key_text : Tree → Text
key_text k = unwrap_or (literal_text k) (first_text (label_of k).texts)

-- whether a key is read: it is computed, and no literal
abbrev pub is_read_key : Bool → Tree → Bool
is_read_key computed k = computed && not (is_literal_key k)
