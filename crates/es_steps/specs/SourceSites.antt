-- The sites of a source: where a node of the program stands in the source with its symbols, each name finds what look-up in the scope
-- table of the program finds from there (ECMA-262, 9.1.2.1).
use Rattle.std.specs.Prelude.{◌≡◌, ℕ, zero, suc, ◌+◌, List, true, Option}
use Rattle.es_tree.specs.HasForm.{has_form}
use Rattle.es_tree.specs.Tree.{Tree, node, Fields, done, ◌then◌, Field, missing, one, many, statements, Trees, empty, ◌before◌}
use Rattle.es_tree.specs.Words.{Text}
use Rattle.es_tree.specs.declared.table.Sort.TheVariants.{Program as s-Program}
use Rattle.es_scope.specs.Tables.{Finds}
use Rattle.es_scope.specs.declared.scoping.Scoping.{Scoping}
use Rattle.es_semantic.specs.Places.{Place, first, outermost, own_scope_count, place_in, scope_count_in, scope_count_in_field}
use Rattle.es_semantic.specs.SymbolsOf.{Declared, find, symbols_of}
use Rattle.es_semantic.specs.TableOf.{IsTableOf}
use Rattle.es_resolution.specs.Laws.{source}
use Rattle.es_steps.specs.Open.{is_body, opened_fields}
use Rattle.es_steps.specs.Steps.{Site, site_in, the_program}

-- SIDE BY SIDE: a tree of the program at its place, with the number of the next scope, and the tree of the source that it is, at its site.
-- They are of one shape.

abbrev mutual
  -- at each node of them the place and the site stand in this relation
  pub SideBySide : (Place → Site → Type 0) → Place → ℕ → Site → Tree → Tree → Type 0
  SideBySide At p n s (node k l fs) (node j m gs) = At p s × SideBySideIn At (place_in p n k l fs) (n + own_scope_count k fs) (site_in s j m (opened_fields (is_body j) gs)) fs gs

  pub SideBySideIn : (Place → Site → Type 0) → (ℕ → Place) → ℕ → (ℕ → Site) → Fields → Fields → Type 0
  SideBySideIn At ps n ss done done = Unit {0}
  SideBySideIn At ps n ss (f then fs) (g then gs) = SideBySideBy At (ps zero) n (ss zero) f g × SideBySideIn At (λ i. ps (suc i)) (n + scope_count_in_field f) (λ i. ss (suc i)) fs gs
  SideBySideIn At ps n ss _ _ = ⊥

  pub SideBySideBy : (Place → Site → Type 0) → Place → ℕ → Site → Field → Field → Type 0
  SideBySideBy At p n s missing missing = Unit {0}
  SideBySideBy At p n s (one t) (one u) = SideBySide At p n s t u
  SideBySideBy At p n s (many ts) (many us) = SideBySideAll At p n s ts us
  SideBySideBy At p n s (statements ts) (statements us) = SideBySideAll At p n s ts us
  SideBySideBy At p n s _ _ = ⊥

  pub SideBySideAll : (Place → Site → Type 0) → Place → ℕ → Site → Trees → Trees → Type 0
  SideBySideAll At p n s empty empty = Unit {0}
  SideBySideAll At p n s (t before ts) (u before us) = SideBySide At p n s t u × SideBySideAll At p (n + scope_count_in t) s ts us
  SideBySideAll At p n s _ _ = ⊥

-- the same at all that stands in a program; it is itself in no scope, and its place is that of what stands in it
abbrev pub InProgram : (Place → Site → Type 0) → Tree → Tree → Type 0
InProgram At (node k l fs) (node j m gs) = SideBySideIn At (place_in (outermost (node k l fs)) 1 k l fs) (1 + own_scope_count k fs) (site_in the_program j m (opened_fields (is_body j) gs)) fs gs

-- THE LAWS

-- the same role, and each name finds from the site what it finds among these symbols from the place
pub record FindsAlike (ds : List Declared) (p : Place) (s : Site) : Type 0 where
  pub role : s.role ≡ p.role
  pub scope : (x : Text) → s.names.scope x ≡ find ds p.around x

abbrev pub LawSourceSites : Type 0
LawSourceSites = (p : Tree) → has_form s-Program p ≡ true → InProgram (FindsAlike (symbols_of p)) p (source p)

-- each name finds from the site what look-up in the table finds from the innermost scope around the place
abbrev pub FindsByTable : Scoping → Place → Site → Type 0
FindsByTable t p s = (x : Text) (m : Option ℕ) → Finds t x (first p.around) m → s.names.scope x ≡ m

abbrev pub LawTableSites : Type 0
LawTableSites = (p : Tree) (t : Scoping) → has_form s-Program p ≡ true → IsTableOf p t → InProgram (FindsByTable t) p (source p)
