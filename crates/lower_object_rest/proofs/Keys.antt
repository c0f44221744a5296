-- The keys of properties, and their texts.
use Rattle.std.proofs.Common.{ap, arith, length, refl, subst, sym, ◌+◌, ◌∙◌, ◌∷◌, ◌≡◌, [], List, Some, ℕ}
use Rattle.std.proofs.lemmas.Bool.{and_parts, or_right}
use Rattle.std.specs.Prelude.{Bool, false, not, true, ◌&&◌}
use Rattle.es_tree.specs.Children.{child_at}
use Rattle.es_tree.specs.Names.{has_computed}
use Rattle.es_tree.specs.Tree.{Label, Tree, Trees, done, empty, fields_of, many, missing, node, one, statements, ◌before◌, ◌then◌}
use Rattle.es_tree.specs.declared.ast_type.AstType.TheVariants.{Identifier, PatternProperty, StringLiteral}
use Rattle.es_patterns.specs.PatternsArity.{IsPatternProperty}
use Rattle.es_resolution.specs.Declarations.{Bound}
use Rattle.es_steps.specs.Nodes.{string_node}
use Rattle.es_rest_rows.specs.RestRows.{keys_by, keys_of, text_of_key}
use Rattle.es_tree.specs.PropertyKeys.{is_literal_key, key_text}
use Rattle.es_rest_shapes.specs.RestShapes.{is_known_key, is_name, is_plain_key, is_plain_property, is_plain_value, reads_key}
use Rattle.lower_object_rest.specs.Profile.{number_of}
use Rattle.lower_object_rest.proofs.PatternShapes.{plain-property, read-property}

-- THE KEY OF A PROPERTY, as its first child

pub text-of : (t k : Tree) → Some k ≡ child_at 0 (fields_of t) → is_plain_property t ≡ true → text_of_key t ≡ string_node (key_text k)
text-of t k e plain = let p = plain-property t plain in at t p.label p.key p.value p.is e
  where
    at : (t : Tree) (l : Label) (j v : Tree) → t ≡ node PatternProperty l (one j then one v then done) → Some k ≡ child_at 0 (fields_of t) → text_of_key t ≡ string_node (key_text k)
    at t l j v is e =
        let same : Some k ≡ Some j = e ∙ ap (λ u. child_at 0 (fields_of u)) is in
        let first : k ≡ j = cc in
        ap text_of_key is ∙ ap (λ i. string_node (key_text i)) (sym first)

-- THE KEYS IN THE ARRAY are names and texts

pub data IsLeaf : Tree → Type 0 where
  word_leaf : (l : Label) → IsLeaf (node Identifier l done)
  text_leaf : (l : Label) → IsLeaf (node StringLiteral l done)

abbrev pub AreLeaves : List Tree → Type 0
AreLeaves [] = Unit {0}
AreLeaves (k ∷ ks) = IsLeaf k × AreLeaves ks

text-leaf : (p : Tree) → IsLeaf (text_of_key p)
text-leaf (node k l (one e then fs)) = text_leaf _
text-leaf (node k l done) = text_leaf _
text-leaf (node k l (missing then fs)) = text_leaf _
text-leaf (node k l (many ts then fs)) = text_leaf _
text-leaf (node k l (statements ts then fs)) = text_leaf _

leaves-by : (b : Bool) (xs : List Bound) (p : Tree) (behind : List Bound → List Tree) → ((ys : List Bound) → AreLeaves (behind ys)) → AreLeaves (keys_by b xs p behind)
leaves-by true (x ∷ xs) p behind later = (word_leaf _, later xs)
leaves-by true [] p behind later = (text-leaf p, later [])
leaves-by false xs p behind later = (text-leaf p, later xs)

pub keys-leaves : (xs : List Bound) (ps : Trees) → AreLeaves (keys_of xs ps)
keys-leaves xs empty = tt
keys-leaves xs (p before ps) = leaves-by (reads_key p) xs p (λ ys. keys_of ys ps) (λ ys. keys-leaves ys ps)

-- one for each property
number-by : (b : Bool) (xs : List Bound) (p : Tree) (behind : List Bound → List Tree) (n : ℕ) → ((ys : List Bound) → length (behind ys) ≡ n) → length (keys_by b xs p behind) ≡ 1 + n
number-by true (x ∷ xs) p behind n later = omega (arith, later xs)
number-by true [] p behind n later = omega (arith, later [])
number-by false xs p behind n later = omega (arith, later xs)

pub keys-number : (xs : List Bound) (ps : Trees) → length (keys_of xs ps) ≡ number_of ps
keys-number xs empty = refl
keys-number xs (p before ps) = number-by (reads_key p) xs p (λ ys. keys_of ys ps) (number_of ps) (λ ys. keys-number ys ps)

-- A PROPERTY whose key is read

pub opens-property : (t : Tree) → reads_key t ≡ true → IsPatternProperty t
opens-property t h = let p = read-property t h in subst (λ (u : Tree). IsPatternProperty u) (sym p.is) (record { kind = refl; arity = (tt, (tt, tt)) })
