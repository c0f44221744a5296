-- Where a node of a program stands in its source, each name finds what look-up among the program's symbols finds.
use Rattle.std.proofs.Common.{arith, ◌≡◌, ◌≤◌, ℕ, zero, suc, ◌+◌, refl, sym, subst, ◌∙◌, List, [], ◌∷◌}
use Rattle.std.specs.Prelude.{Bool, true, false, ◌&&◌, Option, None, if◌then◌else◌}
use Rattle.es_tree.specs.Tree.{Tree, node, Label, Fields, done, ◌then◌, Field, missing, one, many, statements, Trees, empty, ◌before◌, kind_of}
use Rattle.es_tree.specs.Words.{Text}
use Rattle.es_tree.specs.declared.ast_type.AstType.{AstType}
use Rattle.es_tree.specs.declared.ast_type.AstType.TheVariants.{Program}
use Rattle.es_semantic.specs.Places.{Place, first, has_name_scope, makes_scope, is_hoisted_to, is_inside, is_strict_in, outermost, own_scope, own_scope_count, around_in, parameters_in, place_in, scope_count_in, scope_count_in_field, scope_count_in_fields, scope_count_in_trees, visits, visits_in_field, visits_in_fields, visits_in_trees}
use Rattle.es_semantic.specs.RolesOf.{reads, role_at}
use Rattle.es_semantic.specs.ScopesOf.{is_function}
use Rattle.es_semantic.specs.SymbolsOf.{Declared, find, is_bound, symbols_of, with_node, with_visits}
use Rattle.es_semantic.specs.declared.place.Role.{Role}
use Rattle.es_resolution.specs.Declarations.{has_scope, is_var_scope}
use Rattle.es_resolution.specs.Resolved.{Place as Around, around, hoisting, inner, no_name, nowhere, parameters_in as parameters_at, place_in as place_at}
use Rattle.es_resolution.proofs.Bodies.{BodyBy, SeesIn, arounds, body-first, sees-first, sees-later}
use Rattle.es_resolution.proofs.Declares.{declares, declares_among, declares_by}
use Rattle.es_resolution.proofs.Forms.{form-placed}
use Rattle.es_resolution.proofs.Marks.{marked, role-kept}
use Rattle.es_resolution.proofs.Nodes.{Agrees, Body, Known, Sees, hoisted-in, lexical-in, none-empty, now-in, out-true, scope-in}
use Rattle.es_resolution.proofs.Outside.{Fits, fits-in, fits-more, is_parameter}
use Rattle.es_resolution.proofs.OutsideTrees.{places}
use Rattle.es_resolution.proofs.Placed.{IsWellPlaced, Placed, PlacedAll, PlacedBy, PlacedIn, is_last}
use Rattle.es_resolution.proofs.Programs.{root-fits, root-sees}
use Rattle.es_resolution.proofs.Resolving.{agrees-first, agrees-later, bodies-in, in-list, known-field, known-in, same-field, trees-known}
use Rattle.es_resolution.proofs.Sources.{source-resolved}
use Rattle.es_resolution.proofs.SymbolTrees.{own_symbols, resolved, resolved_among, resolved_by, resolved_in, resolved_tree}
use Rattle.es_steps.specs.Open.{finished_fields, is_body, opened_fields}
use Rattle.es_steps.specs.SourceSites.{FindsAlike, InProgram, LawSourceSites, SideBySide, SideBySideAll, SideBySideBy, SideBySideIn}
use Rattle.es_steps.specs.Steps.{Site, site_in, the_program}
use Rattle.es_steps.proofs.Opened.{finished-fields}

-- FOUND: what names find around each node of a tree with its symbols

abbrev mutual
  Found : List Declared → Place → Around → ℕ → Tree → Type 0
  Found F p P n (node k l fs) = ((x : Text) → P.scope x ≡ find F p.around x) × FoundIn F (place_in p n k l fs) (place_at P k (marked l (own_symbols F p n k l fs)) (role_at p.role k l fs) (resolved_in F (place_in p n k l fs) (n + own_scope_count k fs) fs)) (n + own_scope_count k fs) fs

  FoundIn : List Declared → (ℕ → Place) → (ℕ → Around) → ℕ → Fields → Type 0
  FoundIn F ps Ps n done = Unit {0}
  FoundIn F ps Ps n (f then fs) = FoundBy F (ps zero) (Ps zero) n f × FoundIn F (λ i. ps (suc i)) (λ i. Ps (suc i)) (n + scope_count_in_field f) fs

  FoundBy : List Declared → Place → Around → ℕ → Field → Type 0
  FoundBy F p P n missing = Unit {0}
  FoundBy F p P n (one t) = Found F p P n t
  FoundBy F p P n (many ts) = FoundAll F p P n ts
  FoundBy F p P n (statements ts) = FoundAll F p P n ts

  FoundAll : List Declared → Place → Around → ℕ → Trees → Type 0
  FoundAll F p P n empty = Unit {0}
  FoundAll F p P n (t before ts) = Found F p P n t × FoundAll F p P (n + scope_count_in t) ts

mutual
  found-tree : (F : List Declared) (above : AstType) (last : Bool) (ds : List Declared) (p : Place) (P : Around) (ps : Text → Bool) (n : ℕ) (t : Tree) → Known F ds p n → Placed above last t →
      Agrees n (n + scope_count_in t) F (with_visits ds (visits p n t)) → Sees F p P (λ x. declares x false p.role t) (λ x. declares x true p.role t) → Body F ds p P ps (kind_of t) → Found F p P n t
  found-tree F above last ds p P ps n (node k l fs) known placed agrees sees body =
      let rs = role_at p.role k l fs in
      let gs = resolved_in F (place_in p n k l fs) (n + own_scope_count k fs) fs in
      let lbl = marked l (own_symbols F p n k l fs) in
      let es = with_node ds p n k l fs in
      let fields : FoundIn F (place_in p n k l fs) (place_at P k lbl rs gs) (n + own_scope_count k fs) fs =
      found-fields F n k es (if is_hoisted_to k then own_scope n k fs else p.hoist) (parameters_in p k) (is_strict_in p k l fs) rs (around_in p.around n k fs)
      (λ i. if has_scope k && is_inside k i then inner P k lbl rs gs else around P k rs gs) (if is_var_scope k then hoisting P k lbl rs gs else P.hoist) (parameters_at k lbl rs gs) (parameters_at k l rs fs) (n + own_scope_count k fs) fs
      (omega arith) (λ i. fits-in p n k fs i known.fits) (known-in F ds p P ps n k l fs known) (now-in F ds p P ps n k l fs known body) placed.2 (λ s x e d. agrees s x e (omega arith))
      (record {
        some = λ i. none-empty p.around n (has_name_scope k fs) (makes_scope k && is_inside k i) (own_scope n k fs) sees.some;
        scope = scope-in F above last ds p P ps n k l fs known placed body agrees sees.scope;
        lexical = lexical-in F above last ds p P ps n k l fs known placed body agrees sees.lexical;
        hoisted = hoisted-in F above last ds p P ps n k l fs known placed body agrees sees;
        below = bodies-in F above last ds p P ps n k l fs known placed body agrees;
      }) in
      (sees.scope, fields)

  found-fields : (F : List Declared) (n0 : ℕ) (k : AstType) (ds : List Declared) (h : ℕ) (q : Option ℕ) (st : Bool) (R : ℕ → Role) (A : ℕ → List ℕ) (S : ℕ → Text → Option ℕ) (H : Text → Option ℕ) (Q ps : Text → Bool) (n : ℕ) (fs : Fields) →
      n0 ≤ n → ((i : ℕ) → Fits n h q (first (A i))) → ((s : ℕ) (x : Text) → n ≤ s → is_bound ds s x ≡ false) → ((x : Text) → is_parameter ds q x ≡ is_parameter F q x) → PlacedIn k fs →
      Agrees n0 (n + scope_count_in_fields fs) F (with_visits ds (visits_in_fields (places R A h q st) n fs)) → SeesIn F n0 k h q R A S H Q ps fs → FoundIn F (places R A h q st) (arounds S H Q) n fs
  found-fields F n0 k ds h q st R A S H Q ps n done low f fresh now d a e = tt
  found-fields F n0 k ds h q st R A S H Q ps n (w then fs) low f fresh now d a e =
      let es = with_visits ds (visits_in_field (places R A h q st zero) n w) in (
        found-field F k (is_last fs) ds (places R A h q st zero) (arounds S H Q zero) ps n w (record { fits = f zero; fresh = fresh; now = now }) d.0 (agrees-first F ds k h q st R A n n0 w fs low f d a)
            (sees-first F n0 k h q st R A S H Q ps w fs e) e.below.others (body-first F ds n0 k h q st R A S H Q ps n w fs f d a e.below),
        found-fields F n0 k es h q st (λ i. R (suc i)) (λ i. A (suc i)) (λ i. S (suc i)) H Q ps (n + scope_count_in_field w) fs (omega arith) (λ i. fits-more n (n + scope_count_in_field w) h (first (A (suc i))) q (omega arith) (f (suc i)))
            (known-field F ds k (is_last fs) h q st (R zero) (A zero) n w (f zero) d.0 fresh) (λ x. same-field ds x k (is_last fs) h q st (R zero) (A zero) n w (f zero) d.0 ∙ now x) d.1 (agrees-later F ds h q st R A n n0 w fs a) (sees-later F n0 k h q R A S H Q ps w fs e),
      )

  found-field : (F : List Declared) (k : AstType) (last : Bool) (ds : List Declared) (p : Place) (P : Around) (ps : Text → Bool) (n : ℕ) (w : Field) → Known F ds p n → PlacedBy k last w →
      Agrees n (n + scope_count_in_field w) F (with_visits ds (visits_in_field p n w)) → Sees F p P (λ x. declares_by x false p.role w) (λ x. declares_by x true p.role w) → (is_function k ≡ false → (x : Text) → P.parameters x ≡ false) → BodyBy F ds p P ps w → FoundBy F p P n w
  found-field F k last ds p P ps n missing known d a e others body = tt
  found-field F k last ds p P ps n (one t) known d a e others body = found-tree F k last ds p P ps n t known d a e body
  found-field F k last ds p P ps n (many ts) known d a e others body = found-trees F k ds p P ps n ts known d a e others
  found-field F k last ds p P ps n (statements ts) known d a e others body = found-trees F k ds p P ps n ts known d a e others

  found-trees : (F : List Declared) (k : AstType) (ds : List Declared) (p : Place) (P : Around) (ps : Text → Bool) (n : ℕ) (ts : Trees) → Known F ds p n → PlacedAll k ts →
      Agrees n (n + scope_count_in_trees ts) F (with_visits ds (visits_in_trees p n ts)) → Sees F p P (λ x. declares_among x false p.role ts) (λ x. declares_among x true p.role ts) → (is_function k ≡ false → (x : Text) → P.parameters x ≡ false) → FoundAll F p P n ts
  found-trees F k ds p P ps n empty known d a e others = tt
  found-trees F k ds p P ps n (t before ts) known d a e others =
      let both = trees-known F k ds p n t ts known d a in (
        found-tree F k false ds p P ps n t known d.0 both.0 (record { some = e.some; scope = e.scope; lexical = λ x j. e.lexical x (rw j refl); hoisted = λ x j. e.hoisted x (rw j refl) }) (in-list F ds p P ps k t d.0 others),
        found-trees F k (with_visits ds (visits p n t)) p P ps (n + scope_count_in t) ts both.1.0 d.1 both.1.1
            (record { some = e.some; scope = e.scope; lexical = λ x j. e.lexical x (out-true (declares x false p.role t) (declares_among x false p.role ts) k j); hoisted = λ x j. e.hoisted x (out-true (declares x true p.role t) (declares_among x true p.role ts) k j) }) others,
      )

-- SIDE BY SIDE

abbrev new_label : List Declared → Place → ℕ → AstType → Label → Fields → Label
new_label F p n k l fs = marked l (own_symbols F p n k l fs)

abbrev new_fields : List Declared → Place → ℕ → AstType → Label → Fields → Fields
new_fields F p n k l fs = resolved_in F (place_in p n k l fs) (n + own_scope_count k fs) fs

node-roles : (F : List Declared) (p : Place) (n : ℕ) (s : Site) (k : AstType) (l : Label) (fs : Fields) → s.role ≡ p.role →
    role_at s.role k (new_label F p n k l fs) (finished_fields (opened_fields (is_body k) (new_fields F p n k l fs))) ≡ role_at p.role k l fs
node-roles F p n s k l fs r = (λ j. role_at (r j) k (new_label F p n k l fs) (finished-fields (is_body k) (new_fields F p n k l fs) j)) ∙ role-kept F (place_in p n k l fs) (n + own_scope_count k fs) p.role k l (own_symbols F p n k l fs) fs

node-names : (F : List Declared) (p : Place) (P : Around) (n : ℕ) (s : Site) (k : AstType) (l : Label) (fs : Fields) → s.names ≡ P → s.role ≡ p.role →
    (i : ℕ) → (site_in s k (new_label F p n k l fs) (opened_fields (is_body k) (new_fields F p n k l fs)) i).names ≡ place_at P k (new_label F p n k l fs) (role_at p.role k l fs) (new_fields F p n k l fs) i
node-names F p P n s k l fs e r i = λ j. place_at (e j) k (new_label F p n k l fs) (node-roles F p n s k l fs r j) (finished-fields (is_body k) (new_fields F p n k l fs) j) i

mutual
  beside-tree : (F : List Declared) (p : Place) (P : Around) (n : ℕ) (s : Site) (t : Tree) → s.names ≡ P → s.role ≡ p.role → Found F p P n t → SideBySide (FindsAlike F) p n s t (resolved_tree F p n t)
  beside-tree F p P n s (node k l fs) e r h = (
    record { role = r; scope = λ x. (λ i. (e i).scope x) ∙ h.0 x },
    beside-in F (place_in p n k l fs) (place_at P k (new_label F p n k l fs) (role_at p.role k l fs) (new_fields F p n k l fs)) (n + own_scope_count k fs) (site_in s k (new_label F p n k l fs) (opened_fields (is_body k) (new_fields F p n k l fs))) fs
        (node-names F p P n s k l fs e r) (λ i j. node-roles F p n s k l fs r j i) h.1,
  )

  beside-in : (F : List Declared) (ps : ℕ → Place) (Ps : ℕ → Around) (n : ℕ) (ss : ℕ → Site) (fs : Fields) → ((i : ℕ) → (ss i).names ≡ Ps i) → ((i : ℕ) → (ss i).role ≡ (ps i).role) → FoundIn F ps Ps n fs → SideBySideIn (FindsAlike F) ps n ss fs (resolved_in F ps n fs)
  beside-in F ps Ps n ss done e r h = tt
  beside-in F ps Ps n ss (f then fs) e r h = (beside-by F (ps zero) (Ps zero) n (ss zero) f (e zero) (r zero) h.0, beside-in F (λ i. ps (suc i)) (λ i. Ps (suc i)) (n + scope_count_in_field f) (λ i. ss (suc i)) fs (λ i. e (suc i)) (λ i. r (suc i)) h.1)

  beside-by : (F : List Declared) (p : Place) (P : Around) (n : ℕ) (s : Site) (f : Field) → s.names ≡ P → s.role ≡ p.role → FoundBy F p P n f → SideBySideBy (FindsAlike F) p n s f (resolved_by F p n f)
  beside-by F p P n s missing e r h = tt
  beside-by F p P n s (one t) e r h = beside-tree F p P n s t e r h
  beside-by F p P n s (many ts) e r h = beside-all F p P n s ts e r h
  beside-by F p P n s (statements ts) e r h = beside-all F p P n s ts e r h

  beside-all : (F : List Declared) (p : Place) (P : Around) (n : ℕ) (s : Site) (ts : Trees) → s.names ≡ P → s.role ≡ p.role → FoundAll F p P n ts → SideBySideAll (FindsAlike F) p n s ts (resolved_among F p n ts)
  beside-all F p P n s empty e r h = tt
  beside-all F p P n s (t before ts) e r h = (beside-tree F p P n s t e r h.0, beside-all F p P (n + scope_count_in t) s ts e r h.1)

-- THE PROGRAM

program-beside : (l : Label) (fs : Fields) → PlacedIn Program fs → InProgram (FindsAlike (symbols_of (node Program l fs))) (node Program l fs) (resolved (node Program l fs))
program-beside l fs placed =
    let p = node Program l fs in
    let F = symbols_of p in
    let R = role_at reads Program l fs in
    let st = is_strict_in (outermost p) Program l fs in
    let gs = new_fields F (outermost p) 1 Program l fs in
    let lbl = marked l [] in
    let found : FoundIn F (place_in (outermost p) 1 Program l fs) (place_at nowhere Program lbl R gs) 1 fs =
    found-fields F 1 Program [] 0 None st R (λ i. 0 ∷ []) (λ i. inner nowhere Program lbl R gs) (inner nowhere Program lbl R gs) no_name no_name 1 fs (omega arith) (root-fits l fs placed) (λ s x e. refl) (λ x. refl) placed (λ s x e d. refl) (root-sees l fs placed) in
    beside-in F (place_in (outermost p) 1 Program l fs) (place_at nowhere Program lbl R gs) 1 (site_in the_program Program lbl (opened_fields (is_body Program) gs)) fs
    (node-names F (outermost p) nowhere 1 the_program Program l fs refl refl) (λ i j. node-roles F (outermost p) 1 the_program Program l fs refl j i) found

resolved-beside : (p : Tree) → IsWellPlaced p → InProgram (FindsAlike (symbols_of p)) p (resolved p)
resolved-beside (node Program l fs) h = program-beside l fs h.1
resolved-beside (node k l fs) h = absurd (cc (h.0))

pub law_source_sites_proof : LawSourceSites
law_source_sites_proof p form = subst (λ (u : Tree). InProgram (FindsAlike (symbols_of p)) p u) (sym (source-resolved p)) (resolved-beside p (form-placed p form))
