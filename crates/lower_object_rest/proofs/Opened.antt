-- Declarators and patterns that are taken apart.
use Rattle.std.proofs.Common.{ap, arith, get_or, length, refl, suc, sym, zero, ◌++◌, ◌∙◌, ◌∷◌, ◌≡◌, [], List, ℕ}
use Rattle.std.specs.Prelude.{false, true}
use Rattle.es_tree.specs.Heads.{head_of, label}
use Rattle.es_tree.specs.Tree.{Label, Tree, done, empty, many, missing, node, one, statements, trees, ◌before◌, ◌then◌}
use Rattle.es_tree.specs.declared.ast_type.AstType.TheVariants.{ObjectPattern as t-ObjectPattern, RestElement}
use Rattle.es_tree.specs.declared.kind.Kind.TheVariants.{ObjectPattern as k-ObjectPattern}
use Rattle.es_patterns.specs.PatternsArity.{IsObjectPattern, IsRestElement}
use Rattle.es_patterns.specs.PatternsPlain.{plain_object_pattern}
use Rattle.es_patterns.specs.declared.patterns.ObjectPattern.{ObjectPattern}
use Rattle.es_steps.specs.Nodes.{joined_trees}
use Rattle.es_rest_shapes.specs.RestShapes.{are_plain_members, bears_rest, is_named_rest, is_plain_pattern}
use Rattle.lower_object_rest.specs.Parts.{IsWithoutRest, Parts, ends_in_rest}
use Rattle.lower_object_rest.proofs.PatternShapes.{ends-last, members-before, members-plain, parts-of, pattern-among, pattern-bears, pattern-plain}

pub rest-opens : (r : Tree) → is_named_rest r ≡ true → IsRestElement r
rest-opens (node RestElement l (one t then done)) h = record { kind = refl; arity = (tt, tt) }
rest-opens (node RestElement l done) h = absurd (cc h)
rest-opens (node RestElement l (missing then fs)) h = absurd (cc h)
rest-opens (node RestElement l (many ts then fs)) h = absurd (cc h)
rest-opens (node RestElement l (statements ts then fs)) h = absurd (cc h)
rest-opens (node RestElement l (one t then (f then fs))) h = absurd (cc h)
rest-opens (node _ l fs) h = absurd (cc h)

pub pattern-opens : (p : Tree) → is_plain_pattern p ≡ true → IsObjectPattern p
pattern-opens (node t-ObjectPattern l (many ps then done)) h = record { kind = refl; arity = (tt, tt) }
pattern-opens (node t-ObjectPattern l done) h = absurd (cc (parts-of l done h))
pattern-opens (node t-ObjectPattern l (missing then fs)) h = absurd (cc (parts-of l (missing then fs) h))
pattern-opens (node t-ObjectPattern l (one t then fs)) h = absurd (cc (parts-of l (one t then fs) h))
pattern-opens (node t-ObjectPattern l (statements ts then fs)) h = absurd (cc (parts-of l (statements ts then fs) h))
pattern-opens (node t-ObjectPattern l (many ts then (f then fs))) h = absurd (cc (parts-of l (many ts then (f then fs)) h))
pattern-opens (node _ l fs) h = absurd (cc h)

-- THE LAST MEMBER, by its index
pub last-item : (ts : List Tree) (i : ℕ) (x : Tree) → suc i ≡ length ts → x ≡ get_or ts i x → is_named_rest x ≡ ends_in_rest ts
last-item [] i x e h = absurd (omega (arith, e))
last-item (t ∷ []) zero x e h = ap is_named_rest h
last-item (t ∷ []) (suc i) x e h = absurd (omega (arith, e))
last-item (t ∷ u ∷ us) zero x e h = absurd (omega (arith, e))
last-item (t ∷ u ∷ us) (suc i) x e h = last-item (u ∷ us) i x (omega (arith, e)) h

-- A PATTERN, by its members

abbrev opened_pattern : Label → List Tree → Tree
opened_pattern l items = node t-ObjectPattern l (many (trees items) then done)

opened-plain : (p : Tree) (l : Label) (items : List Tree) → opened_pattern l items ≡ p → is_plain_pattern p ≡ true → are_plain_members (trees items) ≡ true
opened-plain p l items e h = pattern-plain l (trees items) (ap is_plain_pattern e ∙ h)

-- the rest, where the last member is one
pub rest-last : (items ps : List Tree) (r : Tree) → items ≡ ps ++ r ∷ [] → ends_in_rest items ≡ true → is_named_rest r ≡ true
rest-last items ps r put e = sym (ends-last ps r) ∙ (ap ends_in_rest (sym put) ∙ e)

last-joined : (ps : List Tree) (r : Tree) → trees (ps ++ r ∷ []) ≡ joined_trees (trees ps) (r before empty)
last-joined [] r = refl
last-joined (p ∷ ps) r = ap (λ us. p before us) (last-joined ps r)

-- with a rest
pub parts-made : (p : Tree) (lp lr : Label) (items ps : List Tree) (r t : Tree) → opened_pattern lp items ≡ p → is_plain_pattern p ≡ true → items ≡ ps ++ r ∷ [] → ends_in_rest items ≡ true → node RestElement lr (one t then done) ≡ r → Parts p lp ps t
parts-made p lp lr items ps r t e h put last is = record {
  rest = lr;
  pattern = sym e ∙ ap (λ us. node t-ObjectPattern lp (many us then done)) (ap trees put ∙ (last-joined ps r ∙ ap (λ s. joined_trees (trees ps) (s before empty)) (sym is)));
  plain = members-before ps r (sym (ap (λ (ts : List Tree). are_plain_members (trees ts)) put) ∙ opened-plain p lp items e h);
  name = ap is_named_rest is ∙ rest-last items ps r put last;
}

-- and without
pub without-made : (p : Tree) (q : ObjectPattern) → plain_object_pattern q ≡ p → is_plain_pattern p ≡ true → ends_in_rest q.properties.items ≡ false → IsWithoutRest p q
without-made p q e h last =
    let l = label q.id q.span (head_of k-ObjectPattern) in
    let plain = members-plain q.properties.items (opened-plain p l q.properties.items e h) last in
    record { pattern = sym e; plain = plain; bears = pattern-among l (trees q.properties.items) plain (ap bears_rest e ∙ pattern-bears p h) }
