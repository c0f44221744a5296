-- Calls of helpers, as they are seen.
use Rattle.std.proofs.Common.{ap, arith, refl, sym, ◌+◌, ◌++◌, ◌∙◌, ◌∷◌, ◌≤◌, ◌≡◌, [], List, Option, ℕ}
use Rattle.std.specs.Prelude.{Bool, codes, false, true}
use Rattle.es_tree.specs.Tree.{Field, Fields, Tree, done, empty, many, node, one, trees, ◌before◌, ◌then◌}
use Rattle.es_tree.specs.Views.{plain_field, plain_fields}
use Rattle.es_tree.specs.Words.{Text}
use Rattle.es_tree.specs.declared.ast_type.AstType.TheVariants.{CallExpression, MemberExpression}
use Rattle.es_tree.specs.declared.node.Field.{Field as NodeField}
use Rattle.es_tree.specs.declared.node.Field.TheVariants.{One}
use Rattle.es_resolution.specs.Seen.{seen, seen_among, seen_by, seen_in}
use Rattle.es_steps.specs.Nodes.{made, member_node, word}
use Rattle.es_steps.specs.ObjectRest.{helper_node}
use Rattle.lower_temporaries.specs.Helpers.{elements, keys_value, mapped_ids}

pub few-mapped : (b : Bool) → mapped_ids b ≤ 6
few-mapped true = omega arith
few-mapped false = omega arith

-- the keys that a rest leaves out, where one is read
pub keys-mapped : (names : ℕ → Text → Option ℕ) (t callee array property convert : Tree) (arguments : List Tree) (fs : Fields) → seen names t ≡ node CallExpression (made [] (false ∷ [])) (one (seen names callee) then many (seen_among names (trees arguments)) then done) → arguments ≡ convert ∷ [] →
    seen names callee ≡ node MemberExpression (made [] (false ∷ false ∷ [])) (one (seen names array) then one (seen names property) then done) → seen names array ≡ keys_value false fs → seen names property ≡ word (codes "map") → seen names convert ≡ helper_node (codes "toPropertyKey") → seen names t ≡ keys_value true fs
keys-mapped names t callee array property convert arguments fs call all member a p h =
    let called : seen names callee ≡ member_node (keys_value false fs) (codes "map") = member ∙ (λ i. node MemberExpression (made [] (false ∷ false ∷ [])) (one (a i) then one (p i) then done)) in
    let given : seen_among names (trees arguments) ≡ helper_node (codes "toPropertyKey") before empty = ap (λ (ts : List Tree). seen_among names (trees ts)) all ∙ (λ i. h i before empty) in
    call ∙ (λ i. node CallExpression (made [] (false ∷ [])) (one (called i) then many (given i) then done))

-- an element more

abbrev pushed : Fields → Field → Fields
pushed done f = f then done
pushed (g then gs) f = g then pushed gs f

plain-pushed : (fs : List NodeField) (t : Tree) → plain_fields (fs ++ One t ∷ []) ≡ pushed (plain_fields fs) (one t)
plain-pushed [] t = refl
plain-pushed (f ∷ fs) t = ap (λ gs. plain_field f then gs) (plain-pushed fs t)

seen-pushed : (names : ℕ → Text → Option ℕ) (gs : Fields) (f : Field) → seen_in names (pushed gs f) ≡ pushed (seen_in names gs) (seen_by names f)
seen-pushed names done f = refl
seen-pushed names (g then gs) f = ap (λ hs. seen_by names g then hs) (seen-pushed names gs f)

elements-pushed : (ks : List Tree) (k : Tree) → elements (ks ++ k ∷ []) ≡ pushed (elements ks) (one k)
elements-pushed [] k = refl
elements-pushed (j ∷ ks) k = ap (λ gs. one j then gs) (elements-pushed ks k)

pub elements-more : (names : ℕ → Text → Option ℕ) (fs gs : List NodeField) (t : Tree) (ks : List Tree) → gs ≡ fs ++ One t ∷ [] → seen_in names (plain_fields fs) ≡ elements ks → seen_in names (plain_fields gs) ≡ elements (ks ++ seen names t ∷ [])
elements-more names fs gs t ks put h =
    ap (λ hs. seen_in names (plain_fields hs)) put
    ∙ (ap (seen_in names) (plain-pushed fs t)
    ∙ (seen-pushed names (plain_fields fs) (one t)
    ∙ (ap (λ hs. pushed hs (one (seen names t))) h ∙ sym (elements-pushed ks (seen names t)))))
