-- Over a whole program of the tree form: an identifier is declared by its role exactly where the static rules have a name for it.
use Rattle.std.proofs.Common.{arith, ◌≡◌, ℕ, zero, suc, ◌+◌, refl, sym, ap, ◌∙◌, List, [], ◌∷◌, ◌++◌}
use Rattle.std.specs.Prelude.{Bool, true, false, ◌||◌, Some}
use Rattle.es_tree.specs.Ancestors.{Ancestor, Visit as SeenVisit, ancestor, scopes, visits as seen_visits, visits_in_fields as seen_in_fields, visits_in_field as seen_in_field, visits_in_trees as seen_in_trees}
use Rattle.es_tree.specs.Attributes.{child_entries}
use Rattle.es_tree.specs.DeclaredNames.{bound_names, declaration_names}
use Rattle.es_tree.specs.HasForm.{ElementsPlace, elements_of, same_type}
use Rattle.es_tree.specs.Names.{first_text}
use Rattle.es_tree.specs.Tree.{Tree, node, Label, Fields, done, ◌then◌, Field, missing, one, many, statements, Trees, empty, ◌before◌, fields_of, field_size, kind_of, tree_size}
use Rattle.es_tree.specs.Words.{Text}
use Rattle.es_tree.specs.declared.ast_type.AstType.{AstType}
use Rattle.es_tree.specs.declared.ast_type.AstType.TheVariants.{Program, Identifier, ArrayExpression, ArrayPattern, ArrayTarget}
use Rattle.es_tree.specs.declared.table.Sort.TheVariants.{Program as s-Program}
use Rattle.es_tree.proofs.NodeForm.{node_form}
use Rattle.es_semantic.specs.DeclaredAlike.{AreAlike, IsAlike, LawDeclared, declares, is_any, is_own_name}
use Rattle.es_semantic.specs.Places.{Place, Visit, outermost, own_scope_count, place_in, scope_count_in, scope_count_in_field, visit, visits, visits_in_field, visits_in_fields, visits_in_trees}
use Rattle.es_semantic.specs.RolesOf.{reads, role_at}
use Rattle.es_semantic.specs.declared.place.Role.{Role}
use Rattle.es_semantic.proofs.DeclaredRoles.{IsInside, declaration-in, expected, field-expected, fits, inside-scope, names-in, own-name-in, role-declares, some_scope}
use Rattle.es_semantic.proofs.FormEdges.{Edges, EdgesAll, EdgesBy, EdgesIn, ElementsFit, TableFits, edges-inside, elements-are, entries_fit, is_last, same-kind}

-- THE TABLE

entries-fit : (k : AstType) → entries_fit fits k 0 (child_entries k) ≡ true
entries-fit Program = refl
entries-fit _ = refl

elements-fit : (k : AstType) (p : ElementsPlace) → elements_of (child_entries k) ≡ Some p → ElementsFit fits k p
elements-fit ArrayExpression p e = elements-are fits ArrayExpression _ p e (record { sort = λ i b. refl; last = λ i b. refl })
elements-fit ArrayPattern p e = elements-are fits ArrayPattern _ p e (record { sort = λ i b. refl; last = λ i b. refl })
elements-fit ArrayTarget p e = elements-are fits ArrayTarget _ p e (record { sort = λ i b. refl; last = λ i b. refl })
elements-fit _ p e = absurd (cc e)

table : TableFits fits
table = record { entries = entries-fit; elements = elements-fit }

-- WHAT STANDS AROUND

-- the role of what has these ancestors
abbrev role_of : List Ancestor → Role
role_of [] = reads
role_of (a ∷ up) = role_at (role_of up) a.kind a.label a.fields a.index

record Agrees (up : List Ancestor) (k : AstType) : Type 0 where
  inside : IsInside k up
  declared : (x : Text) → declares (role_of up) ≡ expected k (is_any (bound_names up x)) (is_own_name up) (is_any (declaration_names up x))

inside-any : (j : AstType) (b : Bool) → b ≡ true → (same_type j Program || b) ≡ true
inside-any j b h = either (same_type j Program)
  where
    either : (c : Bool) → (c || b) ≡ true
    either true = refl
    either false = h

agrees-in : (up : List Ancestor) (k : AstType) (l : Label) (fs : Fields) (n i : ℕ) (last : Bool) (j : AstType) → Agrees up k → fits k i last j ≡ true → Agrees (ancestor k l fs i n ∷ up) j
agrees-in up k l fs n i last j h f = record {
  inside = inside-any j (some_scope (scopes (ancestor k l fs i n ∷ up))) (inside-scope up k l fs n i h.inside);
  declared = λ x.
      let by_role = role-declares (role_of up) k l fs i in
      let by_names = field-expected (is_any (bound_names up x)) (is_own_name up) (is_any (declaration_names up x)) (declares (role_of up)) k i last j (h.declared x) f in
      by_role ∙ by_names ∙ (λ t. expected j (sym (names-in up x k l fs n i h.inside) t) (sym (own-name-in up x k l fs n i) t) (sym (declaration-in up x k l fs n i h.inside) t));
}

edge-kind : (k : AstType) (i : ℕ) (last : Bool) (t : Tree) → Edges fits k i last t → fits k i last (kind_of t) ≡ true
edge-kind k i last (node j l fs) h = h.0

edge-fields : (k : AstType) (i : ℕ) (last : Bool) (t : Tree) → Edges fits k i last t → EdgesIn fits (kind_of t) 0 (fields_of t)
edge-fields k i last (node j l fs) h = h.1

-- VISITS

join : (ss : List SeenVisit) (vs : List Visit) (rs : List SeenVisit) (ws : List Visit) → AreAlike ss vs → AreAlike rs ws → AreAlike (ss ++ rs) (vs ++ ws)
join [] [] rs ws h k = k
join (s ∷ ss) (v ∷ vs) rs ws h k = (h.0, join ss vs rs ws h.1 k)
join [] (v ∷ vs) rs ws h k = absurd h
join (s ∷ ss) [] rs ws h k = absurd h

-- the number of the field j places on
abbrev on : ℕ → ℕ → ℕ
on zero i = i
on (suc j) i = on j (suc i)

on-plus : (j i : ℕ) → on j i ≡ j + i
on-plus zero i = omega arith
on-plus (suc j) i = on-plus j (suc i) ∙ omega arith

on-start : (j : ℕ) → j ≡ on j 0
on-start j = omega (arith, on-plus j 0)

own-alike : (up : List Ancestor) (m n : ℕ) (p : Place) (k : AstType) (l : Label) (fs : Fields) → p.role ≡ role_of up → Agrees up k → IsAlike (record { ancestors = up; number = m; tree = node k l fs }) (visit p n k l fs)
own-alike up m n p Identifier l fs r h = record { same = refl; declared = λ e. ap declares r ∙ h.declared (first_text l.texts) }
own-alike up m n p k l fs r h = record { same = refl; declared = λ e. absurd (cc e) }

mutual
  alike-tree : (up : List Ancestor) (m n : ℕ) (p : Place) (t : Tree) → p.role ≡ role_of up → Agrees up (kind_of t) → EdgesIn fits (kind_of t) 0 (fields_of t) → AreAlike (seen_visits up m t) (visits p n t)
  alike-tree up m n p (node k l fs) r h e = (own-alike up m n p k l fs r h, alike-fields up k l fs m 0 (suc m) (n + own_scope_count k fs) (place_in p n k l fs) fs (λ j. ap (λ q. role_at q k l fs j) r ∙ ap (role_at (role_of up) k l fs) (on-start j)) h e)

  alike-fields : (up : List Ancestor) (k : AstType) (l : Label) (all : Fields) (m i s n : ℕ) (ps : ℕ → Place) (fs : Fields) → ((j : ℕ) → (ps j).role ≡ role_at (role_of up) k l all (on j i)) → Agrees up k → EdgesIn fits k i fs → AreAlike (seen_in_fields up k l all m i s fs) (visits_in_fields ps n fs)
  alike-fields up k l all m i s n ps done r h e = tt
  alike-fields up k l all m i s n ps (f then fs) r h e =
      join (seen_in_field (ancestor k l all i m ∷ up) s f) (visits_in_field (ps zero) n f) (seen_in_fields up k l all m (suc i) (s + field_size f) fs) (visits_in_fields (λ j. ps (suc j)) (n + scope_count_in_field f) fs)
      (alike-field up k l all m i s n (is_last fs) (ps zero) f (r zero) h e.0)
      (alike-fields up k l all m (suc i) (s + field_size f) (n + scope_count_in_field f) (λ j. ps (suc j)) fs (λ j. r (suc j)) h e.1)

  alike-field : (up : List Ancestor) (k : AstType) (l : Label) (all : Fields) (m i s n : ℕ) (last : Bool) (p : Place) (f : Field) → p.role ≡ role_at (role_of up) k l all i → Agrees up k → EdgesBy fits k i last f → AreAlike (seen_in_field (ancestor k l all i m ∷ up) s f) (visits_in_field p n f)
  alike-field up k l all m i s n last p missing r h e = tt
  alike-field up k l all m i s n last p (one t) r h e = alike-tree (ancestor k l all i m ∷ up) s n p t r (agrees-in up k l all m i last (kind_of t) h (edge-kind k i last t e)) (edge-fields k i last t e)
  alike-field up k l all m i s n last p (many ts) r h e = alike-trees up k l all m i s n p ts r h e
  alike-field up k l all m i s n last p (statements ts) r h e = alike-trees up k l all m i s n p ts r h e

  alike-trees : (up : List Ancestor) (k : AstType) (l : Label) (all : Fields) (m i s n : ℕ) (p : Place) (ts : Trees) → p.role ≡ role_at (role_of up) k l all i → Agrees up k → EdgesAll fits k i ts → AreAlike (seen_in_trees (ancestor k l all i m ∷ up) s ts) (visits_in_trees p n ts)
  alike-trees up k l all m i s n p empty r h e = tt
  alike-trees up k l all m i s n p (t before ts) r h e =
      join (seen_visits (ancestor k l all i m ∷ up) s t) (visits p n t) (seen_in_trees (ancestor k l all i m ∷ up) (s + tree_size t) ts) (visits_in_trees p (n + scope_count_in t) ts)
      (alike-tree (ancestor k l all i m ∷ up) s n p t r (agrees-in up k l all m i false (kind_of t) h (edge-kind k i false t e.0)) (edge-fields k i false t e.0))
      (alike-trees up k l all m i (s + tree_size t) (n + scope_count_in t) p ts r h e.1)

no-program : (k : AstType) → (same_type k Program || false) ≡ true → k ≡ Program
no-program k h = at (same_type k Program) refl h
  where
    at : (b : Bool) → same_type k Program ≡ b → (b || false) ≡ true → k ≡ Program
    at true d f = same-kind k Program d
    at false d f = absurd (cc f)

program-agrees : (k : AstType) → k ≡ Program → Agrees [] k
program-agrees Program e = record { inside = refl; declared = λ x. refl }
program-agrees _ e = absurd (cc e)

pub law_declared_proof : LawDeclared
law_declared_proof (node k l fs) form =
    let program = no-program k (node_form s-Program k l fs form).sort in
    alike-tree [] 0 1 (outermost (node k l fs)) (node k l fs) refl (program-agrees k program) (edges-inside fits table s-Program k l fs form)
