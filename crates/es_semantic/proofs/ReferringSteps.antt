-- The walk that adds the references of a program: what is left of the fields of a node, or of a list, and a node.
use Rattle.std.proofs.Common.{◌≡◌, ℕ, suc, ◌+◌, ◌<◌, ◌≤◌, List, ◌++◌, length, get_or, set, refl, sym, ap, subst, ◌∙◌}
use Rattle.es_tree.specs.Tree.{Tree, node, Label, Fields, Trees, trees}
use Rattle.es_tree.specs.Views.{plain_field, plain_fields}
use Rattle.es_tree.specs.declared.ast_type.AstType.{AstType}
use Rattle.es_tree.specs.declared.node.Field.{Field as NodeField}
use Rattle.es_scope.specs.Tables.{reference_count}
use Rattle.es_scope.specs.declared.scoping.Scoping.{Scoping}
use Rattle.es_semantic.specs.FieldPlaces.{held_at}
use Rattle.es_semantic.specs.Places.{Place, own_scope_count, place_in, scope_count_in, scope_count_in_field, visit, visits, visits_in_field, visits_in_fields, visits_in_trees}
use Rattle.es_semantic.specs.Referring.{AreAt, HasNames, HasReferencesMore, IsAt, IsChain, StandFrom}
use Rattle.es_semantic.specs.ReferencesOf.{marked_in_field, marked_in_fields, marked_in_trees, marked_tree, own_marks_of, own_reference, references_among}
use Rattle.es_semantic.specs.ScopesOf.{ScopeRow, scopes_among, scopes_made}
use Rattle.es_semantic.specs.SymbolsOf.{Declared}
use Rattle.es_semantic.specs.Walks.{StandsAs}
use Rattle.es_semantic.specs.declared.field_places.FieldPlaces.{FieldPlaces}
use Rattle.es_semantic.specs.declared.place.Place.{Place as WalkPlace}
use Rattle.es_semantic.proofs.Chains.{chain_in, stand_first, stand_later}
use Rattle.es_semantic.proofs.MoreReferences.{names_kept, references_none, references_then}
use Rattle.es_semantic.proofs.Visits.{references_joined, rest_marked, rest_marked-all, rest_marked-more, rest_marked_trees, rest_marked_trees-all, rest_marked_trees-more, rest_tree_visits, rest_tree_visits-more, rest_tree_visits-none, rest_visits, rest_visits-more, rest_visits-none}
use Rattle.es_semantic.proofs.VisitCounts.{field_count, made_count, scopes_count, scopes_joined}

-- FIELDS

-- What is left of a walk over the fields of a node, which began in the table old: those from i on.
pub record FieldsLeft (ps : ℕ → Place) (rows : List ScopeRow) (ds : List Declared) (old : Scoping) (first : ℕ) (fs : Fields) (i : ℕ) (xs : List NodeField) (s : Scoping) (n : ℕ) : Type 0 where
  pub names : HasNames rows ds s
  pub chains : (j : ℕ) → IsChain rows (ps j).around
  pub made : StandFrom rows n (scopes_among (rest_visits ps n i xs))
  pub marked : rest_marked ds ps n (reference_count s) i xs ≡ marked_in_fields ds ps first (reference_count old) fs
  pub referred : (last : Scoping) → HasReferencesMore s last (references_among ds (rest_visits ps n i xs)) → HasReferencesMore old last (references_among ds (visits_in_fields ps first fs))

pub fields_begun : (held : FieldPlaces) (ps : ℕ → Place) (rows : List ScopeRow) (ds : List Declared) (s : Scoping) (n : ℕ) (xs : List NodeField) → AreAt held ps rows ds s n (visits_in_fields ps n (plain_fields xs)) → FieldsLeft ps rows ds s n (plain_fields xs) 0 xs s n
fields_begun held ps rows ds s n xs h = record { names = h.names; chains = h.chains; made = h.made; marked = refl; referred = λ last more. more }

pub field_next : (held : WalkPlace) (ps : ℕ → Place) (rows : List ScopeRow) (ds : List Declared) (old : Scoping) (first : ℕ) (fs : Fields) (i : ℕ) (xs : List NodeField) (x : NodeField) (s : Scoping) (n : ℕ) → i < length xs → x ≡ get_or xs i x → StandsAs held (ps i) → FieldsLeft ps rows ds old first fs i xs s n →
    IsAt held (ps i) rows ds s n (visits_in_field (ps i) n (plain_field x))
field_next held ps rows ds old first fs i xs x s n l e stands h =
    let vs = visits_in_field (ps i) n (plain_field x) in
    let split = rest_visits-more ps n (n + scope_count_in_field (plain_field x)) i xs x x l e refl in
    let parts = ap scopes_among split ∙ scopes_joined vs (rest_visits ps (n + scope_count_in_field (plain_field x)) (suc i) (set xs i x)) in
    record { stands = stands; names = h.names; chain = h.chains i; made = stand_first rows n (scopes_among vs) _ (subst (StandFrom rows n) parts h.made) }

pub fields_more : (ps : ℕ → Place) (rows : List ScopeRow) (ds : List Declared) (old : Scoping) (first : ℕ) (fs : Fields) (i : ℕ) (xs : List NodeField) (x y : NodeField) (s s' : Scoping) (n n' : ℕ) → i < length xs → x ≡ get_or xs i x → n' ≡ n + scope_count_in_field (plain_field x) →
    plain_field y ≡ marked_in_field ds (ps i) n (reference_count s) (plain_field x) → HasReferencesMore s s' (references_among ds (visits_in_field (ps i) n (plain_field x))) → FieldsLeft ps rows ds old first fs i xs s n → FieldsLeft ps rows ds old first fs (suc i) (set xs i y) s' n'
fields_more ps rows ds old first fs i xs x y s s' n n' l e count marked more h =
    let vs = visits_in_field (ps i) n (plain_field x) in
    let ws = rest_visits ps n' (suc i) (set xs i y) in
    let split : rest_visits ps n i xs ≡ vs ++ ws = rest_visits-more ps n n' i xs x y l e count in
    let parts : scopes_among (rest_visits ps n i xs) ≡ scopes_among vs ++ scopes_among ws = ap scopes_among split ∙ scopes_joined vs ws in
    let joined : references_among ds (rest_visits ps n i xs) ≡ references_among ds vs ++ references_among ds ws = ap (references_among ds) split ∙ references_joined ds vs ws in
    let later : n' ≡ n + length (scopes_among vs) = count ∙ ap (λ k. n + k) (sym (field_count (ps i) n (plain_field x))) in
    record {
      names = names_kept rows ds s s' _ more h.names;
      chains = h.chains;
      made = stand_later rows n n' (scopes_among vs) (scopes_among ws) later (subst (StandFrom rows n) parts h.made);
      marked = rest_marked-more ds ps n n' (reference_count s) (reference_count s') i xs x y l e count marked more.count ∙ h.marked;
      referred = λ last rest. h.referred last (subst (HasReferencesMore s last) (sym joined) (references_then s s' last _ _ more rest));
    }

pub fields_marked : (ps : ℕ → Place) (rows : List ScopeRow) (ds : List Declared) (old : Scoping) (first : ℕ) (fs : Fields) (i : ℕ) (xs : List NodeField) (s : Scoping) (n : ℕ) → length xs ≤ i → FieldsLeft ps rows ds old first fs i xs s n → plain_fields xs ≡ marked_in_fields ds ps first (reference_count old) fs
fields_marked ps rows ds old first fs i xs s n l h = sym (rest_marked-all ds ps n (reference_count s) i xs l) ∙ h.marked

pub fields_referred : (ps : ℕ → Place) (rows : List ScopeRow) (ds : List Declared) (old : Scoping) (first : ℕ) (fs : Fields) (i : ℕ) (xs : List NodeField) (s : Scoping) (n : ℕ) → length xs ≤ i → FieldsLeft ps rows ds old first fs i xs s n → HasReferencesMore old s (references_among ds (visits_in_fields ps first fs))
fields_referred ps rows ds old first fs i xs s n l h = h.referred s (subst (HasReferencesMore s s) (sym (ap (references_among ds) (rest_visits-none ps n i xs l))) (references_none s))

-- TREES

-- What is left of a walk over the trees of a list, which began in the table old: those from i on.
pub record TreesLeft (p : Place) (rows : List ScopeRow) (ds : List Declared) (old : Scoping) (first : ℕ) (ts : Trees) (i : ℕ) (xs : List Tree) (s : Scoping) (n : ℕ) : Type 0 where
  pub names : HasNames rows ds s
  pub chain : IsChain rows p.around
  pub made : StandFrom rows n (scopes_among (rest_tree_visits p n i xs))
  pub marked : rest_marked_trees ds p n (reference_count s) i xs ≡ marked_in_trees ds p first (reference_count old) ts
  pub referred : (last : Scoping) → HasReferencesMore s last (references_among ds (rest_tree_visits p n i xs)) → HasReferencesMore old last (references_among ds (visits_in_trees p first ts))

pub trees_begun : (held : WalkPlace) (p : Place) (rows : List ScopeRow) (ds : List Declared) (s : Scoping) (n : ℕ) (xs : List Tree) → IsAt held p rows ds s n (visits_in_trees p n (trees xs)) → TreesLeft p rows ds s n (trees xs) 0 xs s n
trees_begun held p rows ds s n xs h = record { names = h.names; chain = h.chain; made = h.made; marked = refl; referred = λ last more. more }

pub tree_next : (held : WalkPlace) (p : Place) (rows : List ScopeRow) (ds : List Declared) (old : Scoping) (first : ℕ) (ts : Trees) (i : ℕ) (xs : List Tree) (x : Tree) (s : Scoping) (n : ℕ) → i < length xs → x ≡ get_or xs i x → StandsAs held p → TreesLeft p rows ds old first ts i xs s n → IsAt held p rows ds s n (visits p n x)
tree_next held p rows ds old first ts i xs x s n l e stands h =
    let split = rest_tree_visits-more p n (n + scope_count_in x) i xs x x l e refl in
    let parts = ap scopes_among split ∙ scopes_joined (visits p n x) (rest_tree_visits p (n + scope_count_in x) (suc i) (set xs i x)) in
    record { stands = stands; names = h.names; chain = h.chain; made = stand_first rows n (scopes_among (visits p n x)) _ (subst (StandFrom rows n) parts h.made) }

pub trees_more : (p : Place) (rows : List ScopeRow) (ds : List Declared) (old : Scoping) (first : ℕ) (ts : Trees) (i : ℕ) (xs : List Tree) (x y : Tree) (s s' : Scoping) (n n' : ℕ) → i < length xs → x ≡ get_or xs i x → n' ≡ n + scope_count_in x →
    y ≡ marked_tree ds p n (reference_count s) x → HasReferencesMore s s' (references_among ds (visits p n x)) → TreesLeft p rows ds old first ts i xs s n → TreesLeft p rows ds old first ts (suc i) (set xs i y) s' n'
trees_more p rows ds old first ts i xs x y s s' n n' l e count marked more h =
    let vs = visits p n x in
    let ws = rest_tree_visits p n' (suc i) (set xs i y) in
    let split : rest_tree_visits p n i xs ≡ vs ++ ws = rest_tree_visits-more p n n' i xs x y l e count in
    let parts : scopes_among (rest_tree_visits p n i xs) ≡ scopes_among vs ++ scopes_among ws = ap scopes_among split ∙ scopes_joined vs ws in
    let joined : references_among ds (rest_tree_visits p n i xs) ≡ references_among ds vs ++ references_among ds ws = ap (references_among ds) split ∙ references_joined ds vs ws in
    let later : n' ≡ n + length (scopes_among vs) = count ∙ ap (λ k. n + k) (sym (scopes_count p n x)) in
    record {
      names = names_kept rows ds s s' _ more h.names;
      chain = h.chain;
      made = stand_later rows n n' (scopes_among vs) (scopes_among ws) later (subst (StandFrom rows n) parts h.made);
      marked = rest_marked_trees-more ds p n n' (reference_count s) (reference_count s') i xs x y l e count marked more.count ∙ h.marked;
      referred = λ last rest. h.referred last (subst (HasReferencesMore s last) (sym joined) (references_then s s' last _ _ more rest));
    }

pub trees_marked : (p : Place) (rows : List ScopeRow) (ds : List Declared) (old : Scoping) (first : ℕ) (ts : Trees) (i : ℕ) (xs : List Tree) (s : Scoping) (n : ℕ) → length xs ≤ i → TreesLeft p rows ds old first ts i xs s n → trees xs ≡ marked_in_trees ds p first (reference_count old) ts
trees_marked p rows ds old first ts i xs s n l h = sym (rest_marked_trees-all ds p n (reference_count s) i xs l) ∙ h.marked

pub trees_referred : (p : Place) (rows : List ScopeRow) (ds : List Declared) (old : Scoping) (first : ℕ) (ts : Trees) (i : ℕ) (xs : List Tree) (s : Scoping) (n : ℕ) → length xs ≤ i → TreesLeft p rows ds old first ts i xs s n → HasReferencesMore old s (references_among ds (visits_in_trees p first ts))
trees_referred p rows ds old first ts i xs s n l h = h.referred s (subst (HasReferencesMore s s) (sym (ap (references_among ds) (rest_tree_visits-none p n i xs l))) (references_none s))

-- A NODE

-- the places of the fields, after the marks of the node by itself
pub fields_at : (held : WalkPlace) (fields : FieldPlaces) (p : Place) (rows : List ScopeRow) (ds : List Declared) (s s' : Scoping) (n n' : ℕ) (k : AstType) (l : Label) (fs : Fields) → n' ≡ n + own_scope_count k fs → ((i : ℕ) → StandsAs (held_at fields i) (place_in p n k l fs i)) → IsAt held p rows ds s n (visits p n (node k l fs)) → HasReferencesMore s s' (own_reference ds p k l) →
    AreAt fields (place_in p n k l fs) rows ds s' n' (visits_in_fields (place_in p n k l fs) n' fs)
fields_at held fields p rows ds s s' n n' k l fs count stands h more =
    let v = visit p n k l fs in
    let vs = visits_in_fields (place_in p n k l fs) (n + own_scope_count k fs) fs in
    let later : n' ≡ n + length (scopes_made v) = count ∙ ap (λ j. n + j) (sym (made_count p n k l fs)) in
    let own : StandFrom rows n (scopes_made v) = stand_first rows n (scopes_made v) (scopes_among vs) h.made in
    record {
      stands = stands;
      names = names_kept rows ds s s' _ more h.names;
      chains = λ i. chain_in rows p n k l fs i h.chain own;
      made = subst (λ m. StandFrom rows n' (scopes_among (visits_in_fields (place_in p n k l fs) m fs))) (sym count) (stand_later rows n n' (scopes_made v) (scopes_among vs) later h.made);
    }

pub node_marked : (p : Place) (ds : List Declared) (s s' : Scoping) (n n' : ℕ) (k k' : AstType) (l l' : Label) (fs fs' : Fields) → n' ≡ n + own_scope_count k fs → k' ≡ k → l' ≡ record l { marks = own_marks_of ds p n (reference_count s) k l fs } → HasReferencesMore s s' (own_reference ds p k l) → fs' ≡ marked_in_fields ds (place_in p n k l fs) n' (reference_count s') fs →
    node k' l' fs' ≡ marked_tree ds p n (reference_count s) (node k l fs)
node_marked p ds s s' n n' k k' l l' fs fs' count ek el more ef = rw (ek, el, ef, count, more.count) refl

pub node_referred : (p : Place) (ds : List Declared) (s s' last : Scoping) (n n' : ℕ) (k : AstType) (l : Label) (fs : Fields) → n' ≡ n + own_scope_count k fs → HasReferencesMore s s' (own_reference ds p k l) → HasReferencesMore s' last (references_among ds (visits_in_fields (place_in p n k l fs) n' fs)) →
    HasReferencesMore s last (references_among ds (visits p n (node k l fs)))
node_referred p ds s s' last n n' k l fs count own rest =
    references_then s s' last (own_reference ds p k l) _ own (subst (λ m. HasReferencesMore s' last (references_among ds (visits_in_fields (place_in p n k l fs) m fs))) count rest)
