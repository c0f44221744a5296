-- What the lowering of exponentiation asks of nodes is the same of what is seen of them.
use Rattle.std.proofs.Common.{◌≡◌, ℕ, refl, ap, ◌∙◌}
use Rattle.std.specs.Prelude.{Bool, true, false, ◌&&◌, ◌||◌, not, List, [], ◌∷◌, Option, bytes_eq, codes}
use Rattle.es_tree.specs.Constructs.{is_big_int, is_private_name}
use Rattle.es_tree.specs.Names.{first_text}
use Rattle.es_tree.specs.Parens.{without_parens}
use Rattle.es_tree.specs.Tree.{Tree, node, Fields, kind_of, label_of}
use Rattle.es_tree.specs.Words.{Text}
use Rattle.es_tree.specs.declared.ast_type.AstType.TheVariants.{AssignmentExpression, BigIntLiteral, BinaryExpression, BooleanLiteral, Identifier, MemberExpression, NullLiteral, NumericLiteral, PrivateIdentifier, StringLiteral}
use Rattle.es_resolution.specs.Seen.{seen, seen_in}
use Rattle.es_runs.specs.Exponentiation.{is_literal_key, string_node}
use Rattle.es_traverse.proofs.Kept.{kind-seen}
use Rattle.es_traverse.specs.Laws.{is_construct}
use Rattle.lower_temporaries.proofs.ReadAgain.{no_fields-seen}
use Rattle.lower_temporaries.proofs.SeenLaws.{parens-seen}
use Rattle.lower_temporaries.proofs.TwoFields.{two-seen}
use Rattle.lower_exponentiation.specs.Targets.{IsWrittenAndRead}
use Rattle.lower_exponentiation.specs.Exponentiations.{has_exponentiation_key, has_operands, has_sides, is_evaluated_key, is_exponentiation_target, is_expression_key, is_lowerable_exponentiation}

module _ (names : ℕ → Text → Option ℕ) where
  pub literal_key-seen : (t : Tree) → is_literal_key (seen names t) ≡ is_literal_key t
  literal_key-seen (node NullLiteral l fs) = no_fields-seen names fs
  literal_key-seen (node BooleanLiteral l fs) = no_fields-seen names fs
  literal_key-seen (node NumericLiteral l fs) = no_fields-seen names fs
  literal_key-seen (node BigIntLiteral l fs) = no_fields-seen names fs
  literal_key-seen (node StringLiteral l fs) = no_fields-seen names fs
  literal_key-seen (node _ l fs) = refl

  pub key-seen : (flags : List Bool) (t : Tree) → has_exponentiation_key flags (seen names t) ≡ has_exponentiation_key flags t
  key-seen (true ∷ false ∷ []) t = refl
  key-seen (false ∷ false ∷ []) (node Identifier l fs) = no_fields-seen names fs
  key-seen (false ∷ false ∷ []) (node PrivateIdentifier l fs) = no_fields-seen names fs
  key-seen (false ∷ false ∷ []) (node _ l fs) = refl
  key-seen _ t = refl

  pub evaluated-seen : (computed : Bool) (k : Tree) → is_evaluated_key computed (seen names k) ≡ is_evaluated_key computed k
  evaluated-seen computed k = ap (λ b. computed && not b) (literal_key-seen k)

  pub expression-seen : (computed : Bool) (k : Tree) → is_expression_key computed (seen names k) ≡ is_expression_key computed k
  expression-seen computed k = ap (λ j. computed || not (is_private_name j)) (kind-seen names k)

  target-seen : (t : Tree) → is_exponentiation_target (seen names t) ≡ is_exponentiation_target t
  target-seen (node Identifier l fs) = no_fields-seen names fs
  target-seen (node MemberExpression l fs) = two-seen names (λ o k. has_exponentiation_key l.flags k) (λ o k. key-seen l.flags k) fs
  target-seen (node _ l fs) = refl

  operands-seen : (fs : Fields) → has_operands (seen_in names fs) ≡ has_operands fs
  operands-seen = two-seen names (λ a b. not (is_big_int (kind_of a)) && not (is_big_int (kind_of b))) (λ a b i. not (is_big_int (kind-seen names a i)) && not (is_big_int (kind-seen names b i)))

  below-seen : (t : Tree) → is_exponentiation_target (without_parens (seen names t)) ≡ is_exponentiation_target (without_parens t)
  below-seen t = ap is_exponentiation_target (parens-seen names t) ∙ target-seen (without_parens t)

  sides-seen : (fs : Fields) → has_sides (seen_in names fs) ≡ has_sides fs
  sides-seen = two-seen names (λ t r. not (is_big_int (kind_of r)) && is_exponentiation_target (without_parens t)) (λ t r i. not (is_big_int (kind-seen names r i)) && below-seen t i)

  pub lowerable-seen : (t : Tree) → is_construct is_lowerable_exponentiation (seen names t) ≡ is_construct is_lowerable_exponentiation t
  lowerable-seen (node BinaryExpression l fs) = ap (λ b. bytes_eq (first_text l.texts) (codes "**") && b) (operands-seen fs)
  lowerable-seen (node AssignmentExpression l fs) = ap (λ b. bytes_eq (first_text l.texts) (codes "**=") && b) (sides-seen fs)
  lowerable-seen (node _ l fs) = refl

  -- a key without brackets is written as the string of its own text
  pub texts-seen : (k : Tree) (first : List Tree) (written read : Tree) → IsWrittenAndRead (string_node (first_text (label_of k).texts)) first written read → IsWrittenAndRead (string_node (first_text (label_of (seen names k)).texts)) first written read
  texts-seen (node k l fs) first written read h = h
