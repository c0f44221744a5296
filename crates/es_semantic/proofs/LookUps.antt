-- Look-up in the table of a program finds the first binding outwards, from any of its scopes and from any place.
use Rattle.std.proofs.Common.{◌≡◌, ℕ, zero, suc, ◌+◌, ◌&&◌, Bool, true, false, if◌then◌else◌, Option, Some, option_map, List, [], ◌∷◌, ◌++◌, length, slice_get, refl, sym, ap, subst, ◌∙◌, arith}
use Rattle.std.proofs.lemmas.List.Elements.{All-append, All-cons, All-get_or, All-head, All-nil, All-tail, All-weaker}
use Rattle.std.proofs.lemmas.Option.{get_or_from_slice_get, slice_get_within}
use Rattle.std.specs.List.{All}
use Rattle.es_tree.specs.Tree.{Tree, node, Label, Fields, done, ◌then◌, Field, missing, one, many, statements, Trees, empty, ◌before◌}
use Rattle.es_tree.specs.Words.{Text}
use Rattle.es_tree.specs.declared.ast_type.AstType.{AstType}
use Rattle.es_scope.specs.Tables.{Finds}
use Rattle.es_scope.specs.declared.scoping.Scoping.{Scoping}
use Rattle.es_semantic.specs.Places.{Place, Visit, first, has_name_scope, is_inside, makes_scope, outermost, own_scope, own_scope_count, place_in, scope_count_in, scope_count_in_field, visit, visits, visits_in_field, visits_in_fields, visits_in_trees, visits_of}
use Rattle.es_semantic.specs.Referring.{HasNames, IsChain, inside, no_scope, StandFrom}
use Rattle.es_semantic.specs.ScopesOf.{ScopeRow, scopes_among, scopes_made, scopes_of}
use Rattle.es_semantic.specs.SymbolsOf.{find, symbols_of}
use Rattle.es_semantic.specs.TableOf.{IsTableOf}
use Rattle.es_semantic.proofs.Chains.{chain_in, finds_found, stand_first, stand_later}
use Rattle.es_semantic.proofs.ReferredPrograms.{stand_after}
use Rattle.es_semantic.proofs.VisitCounts.{field_count, made_count, named_makes, scopes_count, scopes_joined}

-- PLACES

-- The scopes around a place are a chain, and there is one at least.
record IsAmong (rows : List ScopeRow) (up : List ℕ) : Type 0 where
  outer : List ℕ
  around : up ≡ first up ∷ outer
  chain : IsChain rows up

-- A visit's place is among the rows, and so are the scopes that its node makes.
record IsVisited (rows : List ScopeRow) (v : Visit) : Type 0 where
  place : IsAmong rows v.place.around
  made : StandFrom rows v.next (scopes_made v)

-- what stands in a field has the scopes of the node, or more
among_in : (rows : List ScopeRow) (p : Place) (n : ℕ) (k : AstType) (l : Label) (fs : Fields) → IsAmong rows p.around → StandFrom rows n (scopes_made (visit p n k l fs)) → (i : ℕ) → IsAmong rows (place_in p n k l fs i).around
among_in rows p n k l fs h stand i = at (makes_scope k && is_inside k i) (has_name_scope k fs) (own_scope n k fs) (chain_in rows p n k l fs i h.chain stand) where
  at : (b c : Bool) (m : ℕ) → IsChain rows (if b then m ∷ (if c then n ∷ p.around else p.around) else (if c then n ∷ p.around else p.around)) → IsAmong rows (if b then m ∷ (if c then n ∷ p.around else p.around) else (if c then n ∷ p.around else p.around))
  at true c m chain = record { outer = if c then n ∷ p.around else p.around; around = refl; chain = chain }
  at false true m chain = record { outer = p.around; around = refl; chain = chain }
  at false false m chain = h

-- two lists of visits stand where both together do
both_stand : (rows : List ScopeRow) (n m : ℕ) (vs ws : List Visit) → m ≡ n + length (scopes_among vs) → StandFrom rows n (scopes_among (vs ++ ws)) → StandFrom rows n (scopes_among vs) × StandFrom rows m (scopes_among ws)
both_stand rows n m vs ws e stand =
    let parts = subst (StandFrom rows n) (scopes_joined vs ws) stand in
    (stand_first rows n (scopes_among vs) (scopes_among ws) parts, stand_later rows n m (scopes_among vs) (scopes_among ws) e parts)

mutual
  all_visited : (rows : List ScopeRow) (p : Place) (n : ℕ) (t : Tree) → IsAmong rows p.around → StandFrom rows n (scopes_among (visits p n t)) → All (IsVisited rows) (visits p n t)
  all_visited rows p n (node k l fs) h stand =
      let v = visit p n k l fs in
      let inner = visits_in_fields (place_in p n k l fs) (n + own_scope_count k fs) fs in
      let made = stand_first rows n (scopes_made v) (scopes_among inner) stand in
      let next : n + own_scope_count k fs ≡ n + length (scopes_made v) = ap (λ m. n + m) (sym (made_count p n k l fs)) in
      All-cons (IsVisited rows) v inner (record { place = h; made = made })
      (all_visited-fields rows (place_in p n k l fs) (n + own_scope_count k fs) fs (among_in rows p n k l fs h made) (stand_later rows n (n + own_scope_count k fs) (scopes_made v) (scopes_among inner) next stand))

  all_visited-fields : (rows : List ScopeRow) (ps : ℕ → Place) (n : ℕ) (fs : Fields) → ((i : ℕ) → IsAmong rows (ps i).around) → StandFrom rows n (scopes_among (visits_in_fields ps n fs)) → All (IsVisited rows) (visits_in_fields ps n fs)
  all_visited-fields rows ps n done h stand = All-nil (IsVisited rows)
  all_visited-fields rows ps n (f then fs) h stand =
      let m = n + scope_count_in_field f in
      let vs = visits_in_field (ps zero) n f in
      let ws = visits_in_fields (λ i. ps (suc i)) m fs in
      let both = both_stand rows n m vs ws (ap (λ c. n + c) (sym (field_count (ps zero) n f))) stand in
      All-append (IsVisited rows) vs ws (all_visited-field rows (ps zero) n f (h zero) both.0) (all_visited-fields rows (λ i. ps (suc i)) m fs (λ i. h (suc i)) both.1)

  all_visited-field : (rows : List ScopeRow) (p : Place) (n : ℕ) (f : Field) → IsAmong rows p.around → StandFrom rows n (scopes_among (visits_in_field p n f)) → All (IsVisited rows) (visits_in_field p n f)
  all_visited-field rows p n missing h stand = All-nil (IsVisited rows)
  all_visited-field rows p n (one t) h stand = all_visited rows p n t h stand
  all_visited-field rows p n (many ts) h stand = all_visited-trees rows p n ts h stand
  all_visited-field rows p n (statements ts) h stand = all_visited-trees rows p n ts h stand

  all_visited-trees : (rows : List ScopeRow) (p : Place) (n : ℕ) (ts : Trees) → IsAmong rows p.around → StandFrom rows n (scopes_among (visits_in_trees p n ts)) → All (IsVisited rows) (visits_in_trees p n ts)
  all_visited-trees rows p n empty h stand = All-nil (IsVisited rows)
  all_visited-trees rows p n (t before ts) h stand =
      let m = n + scope_count_in t in
      let vs = visits p n t in
      let ws = visits_in_trees p m ts in
      let both = both_stand rows n m vs ws (ap (λ c. n + c) (sym (scopes_count p n t))) stand in
      All-append (IsVisited rows) vs ws (all_visited rows p n t h both.0) (all_visited-trees rows p m ts h both.1)

program_visited : (p : Tree) → All (IsVisited (scopes_of p)) (visits_of p)
program_visited p = all_visited (scopes_of p) (outermost p) 1 p (record { outer = []; around = refl; chain = inside refl no_scope }) (stand_after _ (scopes_among (visits_of p)))

-- SCOPES

-- the scopes around a row are a chain
abbrev HasChain : List ScopeRow → ScopeRow → Type 0
HasChain rows r = IsChain rows r.around

made_chained : (rows : List ScopeRow) (up : List ℕ) (n : ℕ) (named makes : Bool) (r q : ScopeRow) → (named ≡ true → makes ≡ true) → r.around ≡ up → q.around ≡ (if named then n ∷ up else up) → IsChain rows up → StandFrom rows n ((if named then r ∷ [] else []) ++ (if makes then q ∷ [] else [])) →
    All (HasChain rows) ((if named then r ∷ [] else []) ++ (if makes then q ∷ [] else []))
made_chained rows up n true false r q h e f chain stand = absurd (let no : false ≡ true = h refl in cc)
made_chained rows up n true true r q h e f chain stand =
    let here : slice_get rows n ≡ Some r = subst (λ m. slice_get rows m ≡ Some r) (omega arith) (stand 0 r refl) in
    let outer : IsChain rows r.around = subst (IsChain rows) (sym e) chain in
    let named : IsChain rows (n ∷ up) = inside (ap (option_map (λ s. s.around)) here ∙ ap Some e) chain in
    All-cons (HasChain rows) r (q ∷ []) outer (All-cons (HasChain rows) q [] (subst (IsChain rows) (sym f) named) (All-nil (HasChain rows)))
made_chained rows up n false true r q h e f chain stand = All-cons (HasChain rows) q [] (subst (IsChain rows) (sym f) chain) (All-nil (HasChain rows))
made_chained rows up n false false r q h e f chain stand = All-nil (HasChain rows)

among_chained : (rows : List ScopeRow) (vs : List Visit) → All (IsVisited rows) vs → All (HasChain rows) (scopes_among vs)
among_chained rows [] all = All-nil (HasChain rows)
among_chained rows (v ∷ vs) all =
    let here = All-head (IsVisited rows) v vs all in
    All-append (HasChain rows) (scopes_made v) (scopes_among vs)
    (made_chained rows v.place.around v.next (has_name_scope v.kind v.fields) (makes_scope v.kind) _ _ (named_makes v.kind v.fields) refl refl here.place.chain here.made)
    (among_chained rows vs (All-tail (IsVisited rows) v vs all))

program_chained : (p : Tree) → All (HasChain (scopes_of p)) (scopes_of p)
program_chained p = All-cons (HasChain (scopes_of p)) _ (scopes_among (visits_of p)) no_scope (among_chained (scopes_of p) (visits_of p) (program_visited p))

-- each scope of a program and those around it are a chain
pub rows-chained : (p : Tree) (n : ℕ) (r : ScopeRow) → slice_get (scopes_of p) n ≡ Some r → IsChain (scopes_of p) (n ∷ r.around)
rows-chained p n r e =
    let rows = scopes_of p in
    let chain = subst (HasChain rows) (get_or_from_slice_get rows n r r e) (All-get_or (HasChain rows) rows n r (slice_get_within rows n r e) (program_chained p)) in
    inside (ap (option_map (λ s. s.around)) e) chain

-- LOOK-UP

table_names : (p : Tree) (s : Scoping) → IsTableOf p s → HasNames (scopes_of p) (symbols_of p) s
table_names p s h = record {
  all_scopes = h.all_scopes;
  parents = h.parents;
  flags = h.flags;
  bindings = h.bindings;
  all_symbols = h.all_symbols;
  symbol_scopes = h.symbol_scopes;
  symbol_flags_are = h.symbol_flags_are;
}

-- What look-up finds from a scope of a program is the symbol of the name in the first scope outwards that binds it.
pub found-in-scope : (p : Tree) (s : Scoping) → IsTableOf p s → (n : ℕ) (r : ScopeRow) → slice_get (scopes_of p) n ≡ Some r → (x : Text) (m : Option ℕ) → Finds s x n m → m ≡ find (symbols_of p) (n ∷ r.around) x
found-in-scope p s h n r e x m f = finds_found (scopes_of p) (symbols_of p) s x n m r.around (table_names p s h) (rows-chained p n r e) f

-- what look-up finds from the innermost scope of this place is the symbol in the first scope around it that binds the name
abbrev pub FindsAround : Tree → Scoping → Visit → Type 0
FindsAround p s v = (x : Text) (m : Option ℕ) → Finds s x (first v.place.around) m → m ≡ find (symbols_of p) v.place.around x

found_around : (p : Tree) (s : Scoping) → IsTableOf p s → (v : Visit) → IsVisited (scopes_of p) v → FindsAround p s v
found_around p s h v at = λ x m f.
    let rows = scopes_of p in
    let place = at.place in
    finds_found rows (symbols_of p) s x (first v.place.around) m place.outer (table_names p s h) (subst (IsChain rows) place.around place.chain) f ∙ ap (λ up. find (symbols_of p) up x) (sym place.around)

-- so it is at every place of a program
pub found-at-place : (p : Tree) (s : Scoping) → IsTableOf p s → All (FindsAround p s) (visits_of p)
found-at-place p s h = All-weaker (IsVisited (scopes_of p)) (FindsAround p s) (found_around p s h) (visits_of p) (program_visited p)
