-- The scopes and symbols of nodes, added to a table one after the other.
use Rattle.std.proofs.Common.{◌≡◌, ℕ, zero, suc, ◌+◌, ◌<◌, ◌≤◌, Bool, true, false, if◌then◌else◌, Option, Some, None, ◌⊎◌, inl, inr, List, [], ◌∷◌, ◌++◌, length, get_or, take, unwrap_or, refl, sym, ap, ◌∙◌, arith, append-nil, append_assoc, length-append, add-one}
use Rattle.es_tree.specs.Heads.{scope}
use Rattle.es_tree.specs.Tree.{Tree, node, Label, Fields, ◌then◌, trees, kind_of, label_of, fields_of}
use Rattle.es_tree.specs.Views.{plain_field, plain_fields}
use Rattle.es_tree.specs.declared.ast_type.AstType.{AstType}
use Rattle.es_tree.specs.declared.ast_type.AstType.TheVariants.{ClassDeclaration, ClassExpression}
use Rattle.es_tree.specs.declared.ids.ScopeId.{ScopeId}
use Rattle.es_tree.specs.declared.node.Field.{Field as NodeField}
use Rattle.es_scope.specs.Tables.{scope_count}
use Rattle.es_scope.specs.declared.flags.ScopeFlags.{ScopeFlags}
use Rattle.es_scope.specs.declared.scoping.Scoping.{Scoping}
use Rattle.es_semantic.specs.Places.{Place, Visit, around_own, has_name_scope, makes_scope, own_scope, own_scope_count, place_in, scope_count_in, scope_count_in_field, scope_count_in_fields, scope_count_in_trees, visit, visits, visits_in_field, visits_in_fields, visits_in_trees}
use Rattle.es_semantic.specs.ScopesOf.{ScopeRow, name_scope, name_scope_flags, own_scope_row, scope_flags, scopes_among, scopes_made, strict_of}
use Rattle.es_semantic.specs.SymbolsOf.{Declared, with_class, with_node, with_visits}
use Rattle.es_semantic.specs.Walks.{Adds, Holds, IsKnown}
use Rattle.es_semantic.specs.declared.place.Place.{Place as WalkPlace}
use Rattle.es_semantic.proofs.VisitCounts.{fields_count, made_count, scopes_joined, trees_count}

with_visits-append : (ds : List Declared) (vs ws : List Visit) → with_visits ds (vs ++ ws) ≡ with_visits (with_visits ds vs) ws
with_visits-append ds [] ws = refl
with_visits-append ds (v ∷ vs) ws = with_visits-append (with_node ds v.place v.next v.kind v.label v.fields) vs ws

-- ONE MORE

-- the visits of the first trees of a list, with one tree more
trees_more : (p : Place) (n : ℕ) (ts : List Tree) (i : ℕ) (t : Tree) → i < length ts → t ≡ get_or ts i t →
    visits_in_trees p n (trees (take (suc i) ts)) ≡ visits_in_trees p n (trees (take i ts)) ++ visits p (n + scope_count_in_trees (trees (take i ts))) t
trees_more p n [] i t h e = absurd (omega (arith, h))
trees_more p n (u ∷ ts) zero t h e = append-nil (visits p n u) ∙ (ap (visits p n) (sym e) ∙ ap (λ m. visits p m t) (omega arith))
trees_more p n (u ∷ ts) (suc i) t h e =
    let m = n + scope_count_in u in
    let first : List Visit = visits_in_trees p m (trees (take i ts)) in
    ap (λ vs. visits p n u ++ vs) (trees_more p m ts i t (omega (arith, h)) e) ∙
    (sym (append_assoc (visits p n u) first (visits p (m + scope_count_in_trees (trees (take i ts))) t)) ∙
    ap (λ j. (visits p n u ++ first) ++ visits p j t) (omega arith))

-- those of the first fields of a node, with one field more
fields_more : (ps : ℕ → Place) (n : ℕ) (fs : List NodeField) (i : ℕ) (f : NodeField) → i < length fs → f ≡ get_or fs i f →
    visits_in_fields ps n (plain_fields (take (suc i) fs)) ≡ visits_in_fields ps n (plain_fields (take i fs)) ++ visits_in_field (ps i) (n + scope_count_in_fields (plain_fields (take i fs))) (plain_field f)
fields_more ps n [] i f h e = absurd (omega (arith, h))
fields_more ps n (g ∷ fs) zero f h e = append-nil (visits_in_field (ps zero) n (plain_field g)) ∙ (ap (λ x. visits_in_field (ps zero) n (plain_field x)) (sym e) ∙ ap (λ m. visits_in_field (ps zero) m (plain_field f)) (omega arith))
fields_more ps n (g ∷ fs) (suc i) f h e =
    let m = n + scope_count_in_field (plain_field g) in
    let here : List Visit = visits_in_field (ps zero) n (plain_field g) in
    let first : List Visit = visits_in_fields (λ j. ps (suc j)) m (plain_fields (take i fs)) in
    ap (λ vs. here ++ vs) (fields_more (λ j. ps (suc j)) m fs i f (omega (arith, h)) e) ∙
    (sym (append_assoc here first (visits_in_field (ps (suc i)) (m + scope_count_in_fields (plain_fields (take i fs))) (plain_field f))) ∙
    ap (λ j. (here ++ first) ++ visits_in_field (ps (suc i)) j (plain_field f)) (omega arith))

-- TABLES

moved : (rows rows' : List ScopeRow) (ds ds' : List Declared) (s : Scoping) → rows ≡ rows' → ds ≡ ds' → Holds rows ds s → Holds rows' ds' s
moved rows rows' ds ds' s e f h = rw (← e, ← f) h

-- the same symbols
pub Holds-same : (rows : List ScopeRow) (ds ds' : List Declared) (s : Scoping) → ds ≡ ds' → Holds rows ds s → Holds rows ds' s
Holds-same rows ds ds' s e h = moved rows rows ds ds' s refl e h

pub Adds-same : (old new : Scoping) (vs ws : ℕ → List Visit) → ((n : ℕ) → vs n ≡ ws n) → Adds old new vs → Adds old new ws
Adds-same old new vs ws e h = λ rows ds holds.
    let n = length rows in
    moved (rows ++ scopes_among (vs n)) (rows ++ scopes_among (ws n)) (with_visits ds (vs n)) (with_visits ds (ws n)) new (ap (λ us. rows ++ scopes_among us) (e n)) (ap (with_visits ds) (e n)) (h rows ds holds)

-- what two parts add, one after the other
pub Adds-then : (old mid new : Scoping) (vs ws whole : ℕ → List Visit) (k : ℕ) → Adds old mid vs → Adds mid new ws → ((n : ℕ) → length (scopes_among (vs n)) ≡ k) → ((n : ℕ) → whole n ≡ vs n ++ ws (n + k)) → Adds old new whole
Adds-then old mid new vs ws whole k first second count joined = λ rows ds h.
    let n = length rows in
    let so_far : List ScopeRow = rows ++ scopes_among (vs n) in
    let declared : List Declared = with_visits ds (vs n) in
    let next : length so_far ≡ n + k = omega (arith, length-append rows (scopes_among (vs n)), count n) in
    moved (so_far ++ scopes_among (ws (length so_far))) (rows ++ scopes_among (whole n)) (with_visits declared (ws (length so_far))) (with_visits ds (whole n)) new
    (ap (λ m. so_far ++ scopes_among (ws m)) next ∙ (append_assoc rows (scopes_among (vs n)) (scopes_among (ws (n + k))) ∙ ap (λ rs. rows ++ rs) (sym (scopes_joined (vs n) (ws (n + k))) ∙ ap scopes_among (sym (joined n)))))
    (ap (λ m. with_visits declared (ws m)) next ∙ (sym (with_visits-append ds (vs n) (ws (n + k))) ∙ ap (with_visits ds) (sym (joined n))))
    (second so_far declared (first rows ds h))

pub Adds-trees_more : (old mid new : Scoping) (p : Place) (ts : List Tree) (i : ℕ) (t : Tree) → i < length ts → t ≡ get_or ts i t → Adds old mid (λ n. visits_in_trees p n (trees (take i ts))) → Adds mid new (λ n. visits p n t) → Adds old new (λ n. visits_in_trees p n (trees (take (i + 1) ts)))
Adds-trees_more old mid new p ts i t l e first second =
    Adds-then old mid new (λ n. visits_in_trees p n (trees (take i ts))) (λ n. visits p n t) (λ n. visits_in_trees p n (trees (take (i + 1) ts))) (scope_count_in_trees (trees (take i ts))) first second
    (λ n. trees_count p n (trees (take i ts)))
    (λ n. ap (λ j. visits_in_trees p n (trees (take j ts))) (add-one i) ∙ trees_more p n ts i t l e)

pub Adds-fields_more : (old mid new : Scoping) (ps : ℕ → Place) (fs : List NodeField) (i : ℕ) (f : NodeField) → i < length fs → f ≡ get_or fs i f → Adds old mid (λ n. visits_in_fields ps n (plain_fields (take i fs))) → Adds mid new (λ n. visits_in_field (ps i) n (plain_field f)) → Adds old new (λ n. visits_in_fields ps n (plain_fields (take (i + 1) fs)))
Adds-fields_more old mid new ps fs i f l e first second =
    Adds-then old mid new (λ n. visits_in_fields ps n (plain_fields (take i fs))) (λ n. visits_in_field (ps i) n (plain_field f)) (λ n. visits_in_fields ps n (plain_fields (take (i + 1) fs))) (scope_count_in_fields (plain_fields (take i fs))) first second
    (λ n. fields_count ps n (plain_fields (take i fs)))
    (λ n. ap (λ j. visits_in_fields ps n (plain_fields (take j fs))) (add-one i) ∙ fields_more ps n fs i f l e)

-- A NODE AND WHAT IS IN IT

-- the scopes of a node, what it declares, and then its fields
pub Adds-node : (old opened owned new : Scoping) (p : Place) (t : Tree) →
    ((rows : List ScopeRow) (ds : List Declared) → Holds rows ds old → Holds (rows ++ scopes_made (visit p (length rows) (kind_of t) (label_of t) (fields_of t))) ds opened) →
    ((rows : List ScopeRow) (ds : List Declared) → Holds rows ds opened → Holds rows (with_node ds p (scope_count old) (kind_of t) (label_of t) (fields_of t)) owned) →
    Adds owned new (λ m. visits_in_fields (place_in p (scope_count old) (kind_of t) (label_of t) (fields_of t)) m (fields_of t)) → Adds old new (λ n. visits p n t)
Adds-node old opened owned new p (node k l fs) opens owns inner = λ rows ds h.
    let n = length rows in
    let made : List ScopeRow = scopes_made (visit p n k l fs) in
    let first = opens rows ds h in
    let second = owns (rows ++ made) ds first in
    let next : length (rows ++ made) ≡ n + own_scope_count k fs = omega (arith, length-append rows made, made_count p n k l fs) in
    moved _ _ _ _ new
    (ap (λ m. (rows ++ made) ++ scopes_among (visits_in_fields (place_in p m k l fs) (length (rows ++ made)) fs)) h.all_scopes ∙
    (ap (λ m. (rows ++ made) ++ scopes_among (visits_in_fields (place_in p n k l fs) m fs)) next ∙
    append_assoc rows made (scopes_among (visits_in_fields (place_in p n k l fs) (n + own_scope_count k fs) fs))))
    (ap (λ m. with_visits (with_node ds p m k l fs) (visits_in_fields (place_in p m k l fs) (length (rows ++ made)) fs)) h.all_scopes ∙
    ap (λ m. with_visits (with_node ds p n k l fs) (visits_in_fields (place_in p n k l fs) m fs)) next)
    (inner (rows ++ made) (with_node ds p (scope_count old) k l fs) second)

-- THE SCOPES OF A NODE

-- what is around the scope that a node makes, by the scope of its name or by the one that it stands in
pub own_around : (up outer : List ℕ) (here : ScopeId) (name : Option ScopeId) (n : ℕ) (k : AstType) (fs : Fields) → up ≡ here.0 ∷ outer → scope name ≡ (if has_name_scope k fs then Some n else None) →
    around_own up n k fs ≡ (unwrap_or name here).0 ∷ (if has_name_scope k fs then up else outer)
own_around up outer here name n k fs e h = at (has_name_scope k fs) name h where
  at : (b : Bool) (o : Option ScopeId) → scope o ≡ (if b then Some n else None) → (if b then n ∷ up else up) ≡ (unwrap_or o here).0 ∷ (if b then up else outer)
  at true (Some s) f = let same : s.0 ≡ n = cc in ap (λ m. m ∷ up) (sym same)
  at true None f = absurd (cc)
  at false (Some s) f = absurd (cc)
  at false None f = e

pub name_scope-is : (v : Visit) (b : Bool) (flags : ScopeFlags) → b ≡ has_name_scope v.kind v.fields → flags ≡ name_scope_flags (strict_of v) → (if b then record { around = v.place.around; flags = flags } ∷ [] else []) ≡ name_scope v
name_scope-is v b flags e f = rw (e, f) refl

pub own_scope-is : (v : Visit) (b : Bool) (flags : ScopeFlags) → b ≡ makes_scope v.kind → flags ≡ scope_flags (strict_of v) v.place.role v.kind →
    (if b then record { around = around_own v.place.around v.next v.kind v.fields; flags = flags } ∷ [] else []) ≡ own_scope_row v
own_scope-is v b flags e f = rw (e, f) refl

pub Holds-opened : (rows names owns : List ScopeRow) (ds : List Declared) (s : Scoping) (v : Visit) → names ≡ name_scope v → owns ≡ own_scope_row v → Holds ((rows ++ names) ++ owns) ds s → Holds (rows ++ scopes_made v) ds s
Holds-opened rows names owns ds s v e f h = moved _ _ ds ds s (append_assoc rows names owns ∙ (ap (λ rs. rows ++ (rs ++ owns)) e ∙ ap (λ rs. rows ++ (name_scope v ++ rs)) f)) refl h

-- CLASSES

-- a class that makes this scope declares its name there
pub class_node : (ds : List Declared) (p : Place) (n s : ℕ) (k : AstType) (l : Label) (fs : Fields) → (k ≡ ClassDeclaration) ⊎ (k ≡ ClassExpression) → Some s ≡ (if makes_scope k then Some (own_scope n k fs) else None) → with_class ds s fs ≡ with_node ds p n k l fs
class_node ds p n s k l fs (inl e) h = at k e h where
  at : (j : AstType) → j ≡ ClassDeclaration → Some s ≡ (if makes_scope j then Some (own_scope n j fs) else None) → with_class ds s fs ≡ with_node ds p n j l fs
  at ClassDeclaration e h = let same : s ≡ own_scope n ClassDeclaration fs = cc in ap (λ m. with_class ds m fs) same
  at j e h = absurd (cc)
class_node ds p n s k l fs (inr e) h = at k e h where
  at : (j : AstType) → j ≡ ClassExpression → Some s ≡ (if makes_scope j then Some (own_scope n j fs) else None) → with_class ds s fs ≡ with_node ds p n j l fs
  at ClassExpression e h = let same : s ≡ own_scope n ClassExpression fs = cc in ap (λ m. with_class ds m fs) same
  at j e h = absurd (cc)

-- PLACES

pub IsKnown-more : (held : WalkPlace) (m n : ℕ) → m ≤ n → IsKnown held m → IsKnown held n
IsKnown-more held m n l h = record {
  scope_known = omega (arith, h.scope_known, l);
  hoist_known = omega (arith, h.hoist_known, l);
  parameters_known = λ i e. omega (arith, h.parameters_known i e, l);
}
