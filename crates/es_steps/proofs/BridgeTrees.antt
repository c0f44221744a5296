-- Trees by symbols without their ids and marks are the trees of es_runs.
use Rattle.std.proofs.Common.{◌≡◌, ℕ, suc, zero, refl, ap, ◌∙◌, List, [], ◌∷◌, ◌++◌, map}
use Rattle.std.specs.Prelude.{Bool, true, false, if◌then◌else◌}
use Rattle.es_tree.specs.Bare.{bare, bare_label, bare_fields, bare_field, bare_trees}
use Rattle.es_tree.specs.Fresh.{parts, first_parts, second_parts, field_parts, node_base, or_ref, without_last_digits, first_characters, longest_base, without_underscores, joined}
use Rattle.es_tree.specs.Parens.{without_parens}
use Rattle.es_tree.specs.Tree.{Tree, node, Fields, done, ◌then◌, Field, missing, one, many, statements, Trees, empty, ◌before◌, trees}
use Rattle.es_tree.specs.declared.ast_type.AstType.TheVariants.{Identifier, PrivateIdentifier, ThisExpression, Super, NullLiteral, BooleanLiteral, NumericLiteral, BigIntLiteral, StringLiteral, MemberExpression, CallExpression, NewExpression, AssignmentExpression, ParenthesizedExpression, ChainExpression}
use Rattle.es_runs.specs.Duplication.{duplicate_base, has_no_fields}
use Rattle.es_runs.specs.Exponentiation.{is_literal_key}
use Rattle.es_runs.specs.Open as plain
use Rattle.es_steps.specs.CoreBridge.{forgotten, forgotten_field, forgotten_fields, forgotten_trees}
use Rattle.es_steps.specs.Open.{Open, body, child, is_body, is_statement_body, nothing_pending, opened, opened_field, opened_fields, opened_trees}

-- BASES

mutual
  parts-bare : (t : Tree) → parts (bare t) ≡ parts t
  parts-bare (node Identifier l fs) = refl
  parts-bare (node PrivateIdentifier l fs) = refl
  parts-bare (node ThisExpression l fs) = refl
  parts-bare (node Super l fs) = refl
  parts-bare (node MemberExpression l fs) = ap (λ p. p ++ second_parts (bare_fields fs)) (first_parts-bare fs) ∙ ap (λ p. first_parts fs ++ p) (second_parts-bare fs)
  parts-bare (node CallExpression l fs) = first_parts-bare fs
  parts-bare (node NewExpression l fs) = first_parts-bare fs
  parts-bare (node AssignmentExpression l fs) = first_parts-bare fs
  parts-bare (node ParenthesizedExpression l fs) = first_parts-bare fs
  parts-bare (node ChainExpression l fs) = first_parts-bare fs
  parts-bare (node _ l fs) = refl

  first_parts-bare : (fs : Fields) → first_parts (bare_fields fs) ≡ first_parts fs
  first_parts-bare done = refl
  first_parts-bare (f then fs) = field_parts-bare f

  second_parts-bare : (fs : Fields) → second_parts (bare_fields fs) ≡ second_parts fs
  second_parts-bare done = refl
  second_parts-bare (f then fs) = first_parts-bare fs

  field_parts-bare : (f : Field) → field_parts (bare_field f) ≡ field_parts f
  field_parts-bare missing = refl
  field_parts-bare (one t) = parts-bare t
  field_parts-bare (many ts) = refl
  field_parts-bare (statements ts) = refl

pub node_base-bare : (t : Tree) → node_base (bare t) ≡ node_base t
node_base-bare t = ap (λ p. or_ref (without_last_digits (first_characters longest_base (without_underscores (joined p))))) (parts-bare t)

pub duplicate_base-bare : (t : Tree) → duplicate_base (bare t) ≡ duplicate_base t
duplicate_base-bare (node Identifier l fs) = refl
duplicate_base-bare (node k l fs) = node_base-bare (node k l fs)

-- WHAT IS ASKED OF TREES

pub without_parens-bare : (t : Tree) → without_parens (bare t) ≡ bare (without_parens t)
without_parens-bare (node ParenthesizedExpression l (one t then fs)) = without_parens-bare t
without_parens-bare (node ParenthesizedExpression l done) = refl
without_parens-bare (node ParenthesizedExpression l (missing then fs)) = refl
without_parens-bare (node ParenthesizedExpression l (many ts then fs)) = refl
without_parens-bare (node ParenthesizedExpression l (statements ts then fs)) = refl
without_parens-bare (node _ l fs) = refl

pub no_fields-bare : (fs : Fields) → has_no_fields (bare_fields fs) ≡ has_no_fields fs
no_fields-bare done = refl
no_fields-bare (f then fs) = refl

pub literal_key-bare : (t : Tree) → is_literal_key (bare t) ≡ is_literal_key t
literal_key-bare (node NullLiteral l fs) = no_fields-bare fs
literal_key-bare (node BooleanLiteral l fs) = no_fields-bare fs
literal_key-bare (node NumericLiteral l fs) = no_fields-bare fs
literal_key-bare (node BigIntLiteral l fs) = no_fields-bare fs
literal_key-bare (node StringLiteral l fs) = no_fields-bare fs
literal_key-bare (node _ l fs) = refl

pub trees-bare : (ts : List Tree) → bare_trees (trees ts) ≡ trees (map bare ts)
trees-bare [] = refl
trees-bare (t ∷ ts) = ap (λ us. bare t before us) (trees-bare ts)

pub map-both : (f : Tree → Tree) (xs ys : List Tree) → map f (xs ++ ys) ≡ map f xs ++ map f ys
map-both f [] ys = refl
map-both f (x ∷ xs) ys = ap (λ zs. f x ∷ zs) (map-both f xs ys)

-- OPEN TREES

either_child : (c : Bool) (o : Open) → forgotten_field (if c then child o else body nothing_pending o) ≡ plain.child (forgotten o)
either_child true o = refl
either_child false o = refl

mutual
  pub forgotten-opened : (t : Tree) → forgotten (opened t) ≡ plain.opened (bare t)
  forgotten-opened (node k l fs) = ap (plain.open_node k (bare_label l)) (fields-opened (is_body k) fs)

  fields-opened : (bodies : ℕ → Bool) (fs : Fields) → forgotten_fields (opened_fields bodies fs) ≡ plain.opened_fields (bare_fields fs)
  fields-opened bodies done = refl
  fields-opened bodies (f then fs) = λ i. plain.◌and◌ (field-opened (bodies zero) f i) (fields-opened (λ j. bodies (suc j)) fs i)

  field-opened : (b : Bool) (f : Field) → forgotten_field (opened_field b f) ≡ plain.opened_field (bare_field f)
  field-opened b missing = refl
  field-opened true (one t) = either_child (is_statement_body t) (opened t) ∙ ap plain.child (forgotten-opened t)
  field-opened false (one t) = ap plain.child (forgotten-opened t)
  field-opened b (many ts) = ap plain.children (trees-opened ts)
  field-opened b (statements ts) = ap (plain.list plain.nothing_pending) (trees-opened ts)

  pub trees-opened : (ts : Trees) → forgotten_trees (opened_trees ts) ≡ plain.opened_trees (bare_trees ts)
  trees-opened empty = refl
  trees-opened (t before ts) = λ i. plain.◌next◌ (forgotten-opened t i) (trees-opened ts i)
