-- The static rules of declared names over numbered visits, and over trees without numbers: from a program that breaks none of them
-- to nodes that each keep them.
use Rattle.std.proofs.Common.{◌≡◌, ◌≤◌, ◌<◌, ◌+◌, ℕ, suc, refl, ap, ◌∙◌, List, [], ◌∷◌, ◌++◌, arith}
use Rattle.std.specs.Prelude.{Bool, true, false, not, if◌then◌else◌, Some}
use Rattle.es_tree.specs.Ancestors.{Ancestor, ancestor, Visit, is_module, stands_in, visits, visits_in_field, visits_in_fields, visits_in_trees}
use Rattle.es_tree.specs.Attributes.{child_entries}
use Rattle.es_tree.specs.DeclaredNames.{Name, declared}
use Rattle.es_tree.specs.HasForm.{ElementsPlace, elements_of, has_form, same_type}
use Rattle.es_tree.specs.Tree.{Tree, node, Label, Fields, done, ◌then◌, Field, missing, one, many, statements, Trees, empty, ◌before◌, fields_of, field_size, fields_size, kind_of, tree_size, trees_size}
use Rattle.es_tree.specs.declared.ast_type.AstType.{AstType}
use Rattle.es_tree.specs.declared.ast_type.AstType.TheVariants.{ArrayExpression, ArrayPattern, ArrayTarget, BlockStatement, CatchClause, Program}
use Rattle.es_tree.specs.declared.table.Sort.{Sort}
use Rattle.es_semantic.proofs.FormEdges.{Edges, EdgesAll, EdgesBy, EdgesIn, ElementsFit, edges-inside, elements-are, entries_fit, is_last}
use Rattle.es_valid_names.proofs.Claims.{above, claims, claims_all, claims_by, claims_in, is_owned, push}
use Rattle.es_valid_names.proofs.Numbers.{Same, declared-same, own, pick, same-in}

-- NO PROGRAM stands in another node

abbrev pub inner : AstType → ℕ → Bool → AstType → Bool
inner k i last j = not (same_type j Program)

entries-fit : (k : AstType) → entries_fit inner k 0 (child_entries k) ≡ true
entries-fit Program = refl
entries-fit _ = refl

elements-fit : (k : AstType) (p : ElementsPlace) → elements_of (child_entries k) ≡ Some p → ElementsFit inner k p
elements-fit ArrayExpression p e = elements-are inner ArrayExpression _ p e (record { sort = λ i b. refl; last = λ i b. refl })
elements-fit ArrayPattern p e = elements-are inner ArrayPattern _ p e (record { sort = λ i b. refl; last = λ i b. refl })
elements-fit ArrayTarget p e = elements-are inner ArrayTarget _ p e (record { sort = λ i b. refl; last = λ i b. refl })
elements-fit _ p e = absurd (cc e)

pub inner-edges : (s : Sort) (k : AstType) (l : Label) (fs : Fields) → has_form s (node k l fs) ≡ true → EdgesIn inner k 0 fs
inner-edges = edges-inside inner (record { entries = entries-fit; elements = elements-fit })

pub no-program : (k : AstType) (i : ℕ) (last : Bool) (t : Tree) → Edges inner k i last t → same_type (kind_of t) Program ≡ false
no-program k i last (node j l fs) h = at (same_type j Program) h.0
  where
    at : (b : Bool) → not b ≡ true → b ≡ false
    at true e = absurd (cc e)
    at false e = refl

pub edge-fields : (k : AstType) (i : ℕ) (last : Bool) (t : Tree) → Edges inner k i last t → EdgesIn inner (kind_of t) 0 (fields_of t)
edge-fields k i last (node j l fs) h = h.1

-- WHAT VISITS DECLARE for a node: one list for each that declares some

pub push-append : (g : List Name) (gs hs : List (List Name)) → push g (gs ++ hs) ≡ push g gs ++ hs
push-append [] gs hs = refl
push-append (n ∷ ns) gs hs = refl

module _ (f : ℕ → ℕ) where
  abbrev pub groups : List Visit → List (List Name)
  groups [] = []
  groups (v ∷ vs) = push (pick f (declared v.ancestors v.tree)) (groups vs)

  pub groups-append : (vs us : List Visit) → groups (vs ++ us) ≡ groups vs ++ groups us
  groups-append [] us = refl
  groups-append (v ∷ vs) us = ap (λ gs. push (pick f (declared v.ancestors v.tree)) gs) (groups-append vs us) ∙ push-append (pick f (declared v.ancestors v.tree)) (groups vs) (groups us)

  mutual
    -- where the nodes from this number on aren't looked at
    pub tree-groups : (up vp : List Ancestor) (n : ℕ) (t : Tree) → Same f up vp → stands_in CatchClause 1 up ≡ stands_in CatchClause 1 vp → same_type (kind_of t) Program ≡ false → EdgesIn inner (kind_of t) 0 (fields_of t) → ((j : ℕ) → n ≤ j → j < n + tree_size t → f j ≡ 0) → groups (visits up n t) ≡ claims is_owned vp t
    tree-groups up vp n (node k l fs) h c p e z =
        (λ i. push (declared-same f up vp h (node k l fs) i) (fields-groups up vp k l fs n 0 (suc n) fs h (λ d. c) (λ d. absurd (cc (d, p))) e (λ j d b. z j (omega arith) (omega arith)) i))
        ∙ (λ i. push (own (declared vp (node k l fs))) (claims_in is_owned vp k l fs (z n (omega arith) (omega arith) i) 0 fs))

    pub fields-groups : (up vp : List Ancestor) (k : AstType) (l : Label) (all : Fields) (n i m : ℕ) (fs : Fields) → Same f up vp → (same_type k BlockStatement ≡ true → stands_in CatchClause 1 up ≡ stands_in CatchClause 1 vp) → (same_type k Program ≡ true → is_module up ≡ is_module vp) → EdgesIn inner k i fs → ((j : ℕ) → m ≤ j → j < m + fields_size fs → f j ≡ 0) → groups (visits_in_fields up k l all n i m fs) ≡ claims_in is_owned vp k l all (f n) i fs
    fields-groups up vp k l all n i m done h c p e z = refl
    fields-groups up vp k l all n i m (g then fs) h c p e z =
        groups-append (visits_in_field (ancestor k l all i n ∷ up) m g) (visits_in_fields up k l all n (suc i) (m + field_size g) fs)
        ∙ (λ d. field-groups (ancestor k l all i n ∷ up) (above k l all i (f n) ∷ vp) k i (is_last fs) m g (same-in f (ancestor k l all i n) up vp h c p) refl e.0 (λ j d b. z j d (omega arith)) d ++ fields-groups up vp k l all n (suc i) (m + field_size g) fs h c p e.1 (λ j d b. z j (omega arith) (omega arith)) d)

    pub field-groups : (up vp : List Ancestor) (k : AstType) (i : ℕ) (last : Bool) (m : ℕ) (g : Field) → Same f up vp → stands_in CatchClause 1 up ≡ stands_in CatchClause 1 vp → EdgesBy inner k i last g → ((j : ℕ) → m ≤ j → j < m + field_size g → f j ≡ 0) → groups (visits_in_field up m g) ≡ claims_by is_owned vp g
    field-groups up vp k i last m missing h c e z = refl
    field-groups up vp k i last m (one t) h c e z = tree-groups up vp m t h c (no-program k i last t e) (edge-fields k i last t e) z
    field-groups up vp k i last m (many ts) h c e z = trees-groups up vp k i m ts h c e z
    field-groups up vp k i last m (statements ts) h c e z = trees-groups up vp k i m ts h c e z

    pub trees-groups : (up vp : List Ancestor) (k : AstType) (i m : ℕ) (ts : Trees) → Same f up vp → stands_in CatchClause 1 up ≡ stands_in CatchClause 1 vp → EdgesAll inner k i ts → ((j : ℕ) → m ≤ j → j < m + trees_size ts → f j ≡ 0) → groups (visits_in_trees up m ts) ≡ claims_all is_owned vp ts
    trees-groups up vp k i m empty h c e z = refl
    trees-groups up vp k i m (t before ts) h c e z =
        groups-append (visits up m t) (visits_in_trees up (m + tree_size t) ts)
        ∙ (λ d. tree-groups up vp m t h c (no-program k i false t e.0) (edge-fields k i false t e.0) (λ j d b. z j d (omega arith)) d ++ trees-groups up vp k i (m + tree_size t) ts h c e.1 (λ j d b. z j (omega arith) (omega arith)) d)
