-- Where a node of a program stands in its source, each name finds what look-up in the program's scope table finds.
use Rattle.std.proofs.Common.{ℕ, zero, suc, ◌+◌, sym, ◌∙◌, List, [], ◌∷◌, ◌++◌}
use Rattle.std.proofs.lemmas.List.Elements.{All-cons, All-head, All-nil, All-tail}
use Rattle.std.specs.List.{All}
use Rattle.es_tree.specs.Tree.{Tree, node, Fields, done, ◌then◌, Field, missing, one, many, statements, Trees, empty, ◌before◌}
use Rattle.es_semantic.specs.Places.{Place, Visit, outermost, own_scope_count, place_in, scope_count_in, scope_count_in_field, visit, visits, visits_in_field, visits_in_fields, visits_in_trees, visits_of}
use Rattle.es_semantic.specs.SymbolsOf.{symbols_of}
use Rattle.es_semantic.proofs.LookUps.{FindsAround, found-at-place}
use Rattle.es_resolution.specs.Laws.{source}
use Rattle.es_steps.specs.Open.{is_body, opened_fields}
use Rattle.es_steps.specs.SourceSites.{FindsAlike, FindsByTable, InProgram, LawTableSites, SideBySide, SideBySideAll, SideBySideBy, SideBySideIn}
use Rattle.es_steps.specs.Steps.{Site, site_in, the_program}
use Rattle.es_steps.proofs.SourceSites.{law_source_sites_proof}

-- the parts of a list of which each has a property
module _ (P : Visit → Type 0) where
  all-first : (vs ws : List Visit) → All P (vs ++ ws) → All P vs
  all-first [] ws h = All-nil P
  all-first (v ∷ vs) ws h = All-cons P v vs (All-head P v (vs ++ ws) h) (all-first vs ws (All-tail P v (vs ++ ws) h))

  all-second : (vs ws : List Visit) → All P (vs ++ ws) → All P ws
  all-second [] ws h = h
  all-second (v ∷ vs) ws h = all-second vs ws (All-tail P v (vs ++ ws) h)

-- what holds at each place and site, where something more is known of each visit
module _ (A B : Place → Site → Type 0) (P : Visit → Type 0) (more : (v : Visit) (s : Site) → P v → A v.place s → B v.place s) where
  mutual
    tree-more : (p : Place) (n : ℕ) (s : Site) (t u : Tree) → All P (visits p n t) → SideBySide A p n s t u → SideBySide B p n s t u
    tree-more p n s (node k l fs) (node j m gs) a h =
        let inner = visits_in_fields (place_in p n k l fs) (n + own_scope_count k fs) fs in
        (more (visit p n k l fs) s (All-head P (visit p n k l fs) inner a) h.0, fields-more (place_in p n k l fs) (n + own_scope_count k fs) (site_in s j m (opened_fields (is_body j) gs)) fs gs (All-tail P (visit p n k l fs) inner a) h.1)

    fields-more : (ps : ℕ → Place) (n : ℕ) (ss : ℕ → Site) (fs gs : Fields) → All P (visits_in_fields ps n fs) → SideBySideIn A ps n ss fs gs → SideBySideIn B ps n ss fs gs
    fields-more ps n ss done done a h = tt
    fields-more ps n ss (f then fs) (g then gs) a h =
        let vs = visits_in_field (ps zero) n f in
        let ws = visits_in_fields (λ i. ps (suc i)) (n + scope_count_in_field f) fs in
        (field-more (ps zero) n (ss zero) f g (all-first P vs ws a) h.0, fields-more (λ i. ps (suc i)) (n + scope_count_in_field f) (λ i. ss (suc i)) fs gs (all-second P vs ws a) h.1)
    fields-more ps n ss fs gs a h = absurd h

    field-more : (p : Place) (n : ℕ) (s : Site) (f g : Field) → All P (visits_in_field p n f) → SideBySideBy A p n s f g → SideBySideBy B p n s f g
    field-more p n s missing missing a h = tt
    field-more p n s (one t) (one u) a h = tree-more p n s t u a h
    field-more p n s (many ts) (many us) a h = trees-more p n s ts us a h
    field-more p n s (statements ts) (statements us) a h = trees-more p n s ts us a h
    field-more p n s f g a h = absurd h

    trees-more : (p : Place) (n : ℕ) (s : Site) (ts us : Trees) → All P (visits_in_trees p n ts) → SideBySideAll A p n s ts us → SideBySideAll B p n s ts us
    trees-more p n s empty empty a h = tt
    trees-more p n s (t before ts) (u before us) a h =
        let vs = visits p n t in
        let ws = visits_in_trees p (n + scope_count_in t) ts in
        (tree-more p n s t u (all-first P vs ws a) h.0, trees-more p (n + scope_count_in t) s ts us (all-second P vs ws a) h.1)
    trees-more p n s ts us a h = absurd h

  program-more : (t u : Tree) → All P (visits_of t) → InProgram A t u → InProgram B t u
  program-more (node k l fs) (node j m gs) a h =
      let p = outermost (node k l fs) in
      let inner = visits_in_fields (place_in p 1 k l fs) (1 + own_scope_count k fs) fs in
      fields-more (place_in p 1 k l fs) (1 + own_scope_count k fs) (site_in the_program j m (opened_fields (is_body j) gs)) fs gs (All-tail P (visit p 1 k l fs) inner a) h

pub law_table_sites_proof : LawTableSites
law_table_sites_proof p t form h =
    program-more (FindsAlike (symbols_of p)) (FindsByTable t) (FindsAround p t) (λ v s found alike x m f. alike.scope x ∙ sym (found x m f)) p (source p) (found-at-place p t h) (law_source_sites_proof p form)
