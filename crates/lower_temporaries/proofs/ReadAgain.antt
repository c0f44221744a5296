-- What is read again: its fields as the code sees them, what is seen of it and its size.
use Rattle.std.proofs.Common.{◌≡◌, ℕ, ◌<◌, ◌≤◌, List, [], ◌∷◌, length, suc, ◌==◌, refl, sym, ap, ◌∙◌, arith}
use Rattle.std.proofs.lemmas.Bool.{eq-eqb, eqb-true}
use Rattle.std.specs.Prelude.{Bool, true, false, ◌&&◌, Option}
use Rattle.es_tree.specs.Tree.{Tree, node, Fields, done, ◌then◌, Field, many, Trees, empty, ◌before◌, trees, fields_size, tree_size}
use Rattle.es_tree.specs.Views.{plain, plain_field, plain_fields}
use Rattle.es_tree.specs.Words.{Text}
use Rattle.es_tree.specs.declared.ast_type.AstType.TheVariants.{Identifier, ThisExpression, Super, NullLiteral, BooleanLiteral, NumericLiteral, BigIntLiteral, StringLiteral, TemplateLiteral, TemplateElement}
use Rattle.es_tree.specs.declared.ids.NodeId.{NodeId}
use Rattle.es_tree.specs.declared.ids.Span.{Span}
use Rattle.es_tree.specs.declared.kind.Kind.{Kind as NodeKind}
use Rattle.es_tree.specs.declared.node.Field.{Field as NodeField}
use Rattle.es_runs.proofs.Named.{and_right}
use Rattle.es_resolution.specs.Declarations.{symbol_of}
use Rattle.es_resolution.specs.Seen.{seen, seen_in}
use Rattle.es_runs.specs.Duplication.{has_no_fields, is_plain_template}
use Rattle.es_steps.specs.Duplication.{is_read_again}

-- AS THE CODE SEES THEM

some_fields : (n : ℕ) → (suc n == 0) ≡ false
some_fields n = at (suc n == 0) refl where
  at : (b : Bool) → (suc n == 0) ≡ b → b ≡ false
  at true e = absurd (omega (arith, eqb-true (suc n) 0 e))
  at false e = refl

pub no_fields : (fs : List NodeField) → has_no_fields (plain_fields fs) ≡ (length fs == 0)
no_fields [] = refl
no_fields (f ∷ fs) = sym (some_fields (length fs))

-- where a test of a node of this kind is whether it has no fields, the code asks for their number
pub asks_fields : (test : Tree → Bool) (t : Tree) (id : NodeId) (span : Span) (kind : NodeKind) (fs : List NodeField) (n : ℕ) → plain id span kind (plain_fields fs) ≡ t → ((gs : Fields) → test (plain id span kind gs) ≡ has_no_fields gs) → n ≡ length fs → test t ≡ (n == 0)
asks_fields test t id span kind fs n view leaf count = sym (ap test view) ∙ (leaf (plain_fields fs) ∙ (no_fields fs ∙ ap (λ m. m == 0) (sym count)))

-- the same of a test that asks for more
pub some_fields_fail : (test : Tree → Bool) (t : Tree) (id : NodeId) (span : Span) (kind : NodeKind) (fs : List NodeField) (n : ℕ) (b : Bool) → plain id span kind (plain_fields fs) ≡ t → ((gs : Fields) → test (plain id span kind gs) ≡ (has_no_fields gs && b)) → n ≡ length fs → (n == 0) ≡ false → test t ≡ false
some_fields_fail test t id span kind fs n b view leaf count some =
    let no : has_no_fields (plain_fields fs) ≡ false = no_fields fs ∙ (ap (λ m. m == 0) (sym count) ∙ some) in
    sym (ap test view) ∙ (leaf (plain_fields fs) ∙ ap (λ a. a && b) no)

-- the fields of a template by its parts and its expressions

with_expressions : (ts : Trees) (e : Tree) (es : Trees) → is_plain_template (many ts then (many (e before es) then done)) ≡ false
with_expressions (node TemplateElement l done before empty) e es = refl
with_expressions _ e es = refl

pub some_expressions : (ts es : List Tree) → (length es == 0) ≡ false → is_plain_template (many (trees ts) then (many (trees es) then done)) ≡ false
some_expressions ts [] some = absurd (let no : true ≡ false = sym (eq-eqb 0 0 refl) ∙ some in cc no)
some_expressions ts (e ∷ es) some = with_expressions (trees ts) e (trees es)

parts_two : (t u : Tree) (ts es : Trees) → is_plain_template (many (t before (u before ts)) then (many es then done)) ≡ false
parts_two (node TemplateElement l done) u ts es = refl
parts_two _ u ts es = refl

pub two_parts : (ts es : List Tree) → 1 < length ts → is_plain_template (many (trees ts) then (many (trees es) then done)) ≡ false
two_parts (t ∷ u ∷ ts) es h = parts_two t u (trees ts) (trees es)
two_parts [] es h = absurd (omega (arith, h))
two_parts (t ∷ []) es h = absurd (omega (arith, h))

one_field : (f : Field) → is_plain_template (f then done) ≡ false
one_field (many (node TemplateElement l done before empty)) = refl
one_field _ = refl

pub short_template : (fs : List NodeField) → length fs < 2 → is_plain_template (plain_fields fs) ≡ false
short_template [] h = refl
short_template (f ∷ []) h = one_field (plain_field f)
short_template (f ∷ g ∷ fs) h = absurd (omega (arith, h))

three_fields : (f g h : Field) (fs : Fields) → is_plain_template (f then (g then (h then fs))) ≡ false
three_fields (many (node TemplateElement l done before empty)) (many empty) h fs = refl
three_fields _ _ h fs = refl

pub long_template : (fs : List NodeField) → 2 < length fs → is_plain_template (plain_fields fs) ≡ false
long_template (f ∷ g ∷ k ∷ fs) h = three_fields (plain_field f) (plain_field g) (plain_field k) (plain_fields fs)
long_template [] h = absurd (omega (arith, h))
long_template (f ∷ []) h = absurd (omega (arith, h))
long_template (f ∷ g ∷ []) h = absurd (omega (arith, h))

-- AS THEY ARE SEEN

module _ (names : ℕ → Text → Option ℕ) where
  pub no_fields-seen : (fs : Fields) → has_no_fields (seen_in names fs) ≡ has_no_fields fs
  no_fields-seen done = refl
  no_fields-seen (f then fs) = refl

  pub plain_template-seen : (fs : Fields) → is_plain_template (seen_in names fs) ≡ is_plain_template fs
  plain_template-seen (many (node TemplateElement l done before empty) then (many empty then done)) = refl
  plain_template-seen _ = refl

  -- whether an expression is read again: a name by the mark of its symbol
  abbrev pub reads_again : (Option ℕ → Bool) → Tree → Bool
  reads_again again t = is_read_again again (seen names t)

-- SIZES

alone : (fs : Fields) → has_no_fields fs ≡ true → fields_size fs ≡ 0
alone done h = refl
alone (f then fs) h = absurd (cc h)

plain_template-size : (fs : Fields) → is_plain_template fs ≡ true → fields_size fs ≡ 1
plain_template-size (many (node TemplateElement l done before empty) then (many empty then done)) h = refl
plain_template-size _ h = absurd (cc h)

-- what is read again is at most two nodes
pub read_again-small : (again : Option ℕ → Bool) (t : Tree) → is_read_again again t ≡ true → tree_size t ≤ 2
read_again-small again (node Identifier l fs) h = omega (arith, alone fs (and_right (again (symbol_of l)) (has_no_fields fs) h))
read_again-small again (node ThisExpression l fs) h = omega (arith, alone fs h)
read_again-small again (node Super l fs) h = omega (arith, alone fs h)
read_again-small again (node NullLiteral l fs) h = omega (arith, alone fs h)
read_again-small again (node BooleanLiteral l fs) h = omega (arith, alone fs h)
read_again-small again (node NumericLiteral l fs) h = omega (arith, alone fs h)
read_again-small again (node BigIntLiteral l fs) h = omega (arith, alone fs h)
read_again-small again (node StringLiteral l fs) h = omega (arith, alone fs h)
read_again-small again (node TemplateLiteral l fs) h = omega (arith, plain_template-size fs h)
read_again-small again (node _ l fs) h = absurd (cc h)
