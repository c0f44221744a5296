-- The source of a program meets the conditions of a visit by the core lowerings. At each exponentiation that is to be lowered `Math` finds
-- nothing, and `babelHelpers` at each object literal with a spread and each object target with a rest, side by side over the program at its places and
-- the source at its sites; chains stand as the static rules have them.
use Rattle.std.proofs.Common.{◌≡◌, ℕ, zero, suc, ◌+◌, refl, sym, ap, subst, ◌∙◌, List, [], ◌∷◌}
use Rattle.std.specs.Prelude.{Bool, true, false, not, ◌&&◌, ◌||◌, Option, Some, None, bytes_eq, is_some, codes, if◌then◌else◌}
use Rattle.std.proofs.lemmas.Bool.{and_from, and_parts, true≢false}
use Rattle.es_tree.specs.Constructs.{any_kind, field_at, has_member, is_big_int, is_child, is_exponentiation, is_object_spread, is_rest, is_spread}
use Rattle.es_tree.specs.HasForm.{has_form, same_type}
use Rattle.es_tree.specs.Names.{first_text}
use Rattle.es_tree.specs.Tree.{Tree, node, Label, Fields, done, ◌then◌, Field, missing, one, many, statements, Trees, empty, ◌before◌, kind_of}
use Rattle.es_tree.specs.Walks.{any_node}
use Rattle.es_tree.specs.Words.{Text}
use Rattle.es_tree.specs.declared.ast_type.AstType.{AstType}
use Rattle.es_tree.specs.declared.ast_type.AstType.TheVariants.{ArrowFunctionExpression, AssignmentExpression, BinaryExpression, FunctionBody, ObjectExpression, ObjectTarget, Program, StaticBlock}
use Rattle.es_tree.specs.declared.options.EnvOptions.{EnvOptions}
use Rattle.es_tree.specs.declared.table.Sort.TheVariants.{Program as s-Program}
use Rattle.es_tree.proofs.NodeForm.{node_form}
use Rattle.es_runs.specs.Rules.{strays}
use Rattle.es_runs.proofs.TidyBare.{strays-bare}
use Rattle.es_semantic.specs.Places.{Place, Visit, is_inside, outermost, own_scope_count, place_in, scope_count_in, scope_count_in_field, visits, visits_in_field, visits_in_fields, visits_in_trees}
use Rattle.es_semantic.specs.RolesOf.{reads, role_at}
use Rattle.es_semantic.specs.SymbolsOf.{Declared, find, symbols_of}
use Rattle.es_semantic.specs.declared.place.Role.{Role}
use Rattle.es_resolution.specs.Declarations.{has_scope, is_var_scope}
use Rattle.es_resolution.specs.Laws.{source}
use Rattle.es_resolution.specs.Resolved.{Place as Around, frame, name_frame, place_in as place_at, var_frame, vars_in, within, within_vars}
use Rattle.es_resolution.proofs.Forms.{form-placed}
use Rattle.es_resolution.proofs.Marks.{marked}
use Rattle.es_resolution.proofs.Placed.{IsWellPlaced, Placed, PlacedAll, PlacedBy, PlacedIn, is_last, kind_fits}
use Rattle.es_resolution.proofs.Sources.{source-resolved}
use Rattle.es_resolution.proofs.SymbolTrees.{own_symbols, resolved, resolved_among, resolved_by, resolved_in, resolved_tree}
use Rattle.es_steps.specs.Open.{OpenFields, finished_fields, is_body, is_statement_body, opened_fields}
use Rattle.es_steps.specs.SourceSites.{FindsAlike, InProgram, SideBySide, SideBySideAll, SideBySideBy, SideBySideIn}
use Rattle.es_steps.specs.Steps.{Site, site_in, the_program}
use Rattle.es_steps.proofs.SourceSites.{law_source_sites_proof}
use Rattle.es_valid_steps.proofs.Visits.{law_among_proof, law_places_proof}
use Rattle.es_conditions.specs.CoreConditions.{body_site, each_passes, each_passes_among, each_passes_by, each_passes_in, holds_none_where, is_chain_inside, is_copied, is_copy_free, is_known, is_power_free, is_settled, is_unmarked_chain, is_wrapped}
use Rattle.es_conditions.proofs.Inward.{is-known}
use Rattle.es_conditions.proofs.Marks.{none-where}
use Rattle.es_rest_shapes.specs.HelperNames.{binds_helpers}
use Rattle.es_rest_shapes.specs.RestShapes.{is_rest_declaration}
use Rattle.es_unsupported.specs.FirstUnsupported.{first_among, first_unsupported, found_at}
use Rattle.es_unsupported.specs.Shapes.{is_helper_bound, is_math_bound, is_unbuilt, shape_at}
use Rattle.es_unsupported.proofs.Firsts.{left_none, right_none}
use Rattle.es_unsupported.proofs.Taken.{each-none, none_found, taken-shapes}
use Rattle.es_starts.specs.Starts.{LawFirstConditions}
use Rattle.es_starts.proofs.ChainMarks.{full-bare, full-tree, tidy-tree}
use Rattle.es_starts.proofs.ChainPlaces.{alike-self, chain_test, passes-bare, placed-tree}
use Rattle.es_starts.proofs.FirstFits.{source-bare, source-form}

-- SITES from which names find the same. The site of the body of an arrow that is an expression has no parameters, which a node asks for
-- where `var` declares in its scope: no such node is that body.

record Near (asks : Bool) (s m : Site) : Type 0 where
  role : m.role ≡ s.role
  scope : m.names.scope ≡ s.names.scope
  parameters : asks ≡ true → m.names.parameters ≡ s.names.parameters

near-any : (b : Bool) (s m : Site) → Near true s m → Near b s m
near-any b s m h = record { role = h.role; scope = h.scope; parameters = λ e. h.parameters refl }

near-self : (s : Site) → Near true s s
near-self s = record { role = refl; scope = refl; parameters = λ e. refl }

var-near : (b : Bool) (P Q : Around) (bs cs : _) → (b ≡ true → Q.parameters ≡ P.parameters) → Q.scope ≡ P.scope →
    (if b then within_vars Q.parameters bs (within cs Q.scope) else within cs Q.scope) ≡ (if b then within_vars P.parameters bs (within cs P.scope) else within cs P.scope)
var-near true P Q bs cs h e = λ i. within_vars (h refl i) bs (within cs (e i))
var-near false P Q bs cs h e = λ i. within cs (e i)

near-in : (k : AstType) (s m : Site) (l : Label) (fs : OpenFields) → Near (is_var_scope k) s m → (i : ℕ) → Near true (site_in s k l fs i) (site_in m k l fs i)
near-in k s m l fs h i =
    let gs = finished_fields fs in
    let rs = role_at s.role k l gs in
    let lifted : (place_at m.names k l (role_at m.role k l gs) gs i).scope ≡ (place_at m.names k l rs gs i).scope = λ j. (place_at m.names k l (role_at (h.role j) k l gs) gs i).scope in
    let vars : vars_in m.names k rs gs ≡ vars_in s.names k rs gs = var-near (is_var_scope k) s.names m.names (var_frame rs gs) (name_frame k rs gs) h.parameters h.scope in
    let there : (place_at m.names k l rs gs i).scope ≡ (place_at s.names k l rs gs i).scope = λ j. if has_scope k && is_inside k i then within (frame k l rs gs) (vars j) else within (name_frame k rs gs) (h.scope j) in
    record {
      role = λ j. role_at (h.role j) k l gs i;
      scope = lifted ∙ there;
      parameters = λ e. λ j. (place_at m.names k l (role_at (h.role j) k l gs) gs i).parameters;
    }

-- THE BODY of an arrow

arrow-body : (k : AstType) (i : ℕ) → is_body k i ≡ true → k ≡ ArrowFunctionExpression
arrow-body ArrowFunctionExpression (suc zero) e = refl
arrow-body _ i e = absurd (cc e)

body-role : (r : Role) (k : AstType) (l : Label) (fs : Fields) (i : ℕ) → is_body k i ≡ true → role_at r k l fs i ≡ reads
body-role r ArrowFunctionExpression l fs (suc zero) e = refl
body-role r _ l fs i e = absurd (cc e)

body-kind : (last : Bool) (k : AstType) (l : Label) (fs : Fields) → kind_fits ArrowFunctionExpression last k ≡ true → is_statement_body (node k l fs) ≡ false → is_var_scope k ≡ false
body-kind last Program l fs h e = absurd (cc h)
body-kind last StaticBlock l fs h e = absurd (cc h)
body-kind last FunctionBody l fs h e = absurd (cc e)
body-kind last _ l fs h e = refl

-- EXPONENTIATIONS AND SPREADS, which symbols don't change

module _ (F : List Declared) where
  big-field : (p : Place) (n : ℕ) (f : Field) → is_child is_big_int (resolved_by F p n f) ≡ is_child is_big_int f
  big-field p n missing = refl
  big-field p n (one (node k l fs)) = refl
  big-field p n (many ts) = refl
  big-field p n (statements ts) = refl

  big-at : (i : ℕ) (ps : ℕ → Place) (n : ℕ) (fs : Fields) → is_child is_big_int (field_at i (resolved_in F ps n fs)) ≡ is_child is_big_int (field_at i fs)
  big-at i ps n done = refl
  big-at zero ps n (f then fs) = big-field (ps zero) n f
  big-at (suc i) ps n (f then fs) = big-at i (λ j. ps (suc j)) (n + scope_count_in_field f) fs

  power-kept : (ps : ℕ → Place) (n : ℕ) (k : AstType) (l : Label) (m : List (Option ℕ)) (fs : Fields) → is_exponentiation k (marked l m) (resolved_in F ps n fs) ≡ is_exponentiation k l fs
  power-kept ps n BinaryExpression l m fs = λ i. bytes_eq (first_text l.texts) (codes "**") && not (big-at 0 ps n fs i) && not (big-at 1 ps n fs i)
  power-kept ps n AssignmentExpression l m fs = λ i. bytes_eq (first_text l.texts) (codes "**=") && not (big-at 1 ps n fs i)
  power-kept ps n _ l m fs = refl

  kind-kept : (p : Place) (n : ℕ) (t : Tree) → kind_of (resolved_tree F p n t) ≡ kind_of t
  kind-kept p n (node k l fs) = refl

  kinds-kept : (test : AstType → Bool) (p : Place) (n : ℕ) (ts : Trees) → any_kind test (resolved_among F p n ts) ≡ any_kind test ts
  kinds-kept test p n empty = refl
  kinds-kept test p n (t before ts) = λ i. test (kind-kept p n t i) || kinds-kept test p (n + scope_count_in t) ts i

  members-kept : (test : AstType → Bool) (ps : ℕ → Place) (n : ℕ) (fs : Fields) → has_member test (field_at 0 (resolved_in F ps n fs)) ≡ has_member test (field_at 0 fs)
  members-kept test ps n done = refl
  members-kept test ps n (missing then fs) = refl
  members-kept test ps n (one t then fs) = refl
  members-kept test ps n (many ts then fs) = kinds-kept test (ps zero) n ts
  members-kept test ps n (statements ts then fs) = refl

  spread-kept : (ps : ℕ → Place) (n : ℕ) (k : AstType) (l : Label) (m : List (Option ℕ)) (fs : Fields) → is_object_spread k (marked l m) (resolved_in F ps n fs) ≡ is_object_spread k l fs
  spread-kept ps n ObjectExpression l m fs = members-kept is_spread ps n fs
  spread-kept ps n _ l m fs = refl

  copied-kept : (ps : ℕ → Place) (n : ℕ) (k : AstType) (l : Label) (m : List (Option ℕ)) (fs : Fields) → is_copied k (marked l m) (resolved_in F ps n fs) ≡ is_copied k l fs
  copied-kept ps n k l m fs = λ i. spread-kept ps n k l m fs i || (same_type k ObjectTarget && members-kept is_rest ps n fs i)

-- WHAT IS FOUND AMONG NODES

abbrev FindsNone : EnvOptions → List Declared → List Visit → Type 0
FindsNone o F vs = first_among o F vs ≡ None

found-none : (o : EnvOptions) (F : List Declared) (v : Visit) (vs : List Visit) → FindsNone o F (v ∷ vs) → (shape_at o F v.place.around v.kind v.label v.fields ≡ None) × FindsNone o F vs
found-none o F v vs h =
    let shape = shape_at o F v.place.around v.kind v.label v.fields in
    let here = found_at v.label.id shape in
    (none_found v.label.id shape (left_none here (first_among o F vs) h), right_none here (first_among o F vs) h)

-- no row holds where none is found
no-row : {X : Type 0} (b : Bool) (x : X) (y : Option X) → (if b then Some x else y) ≡ None → b ≡ false
no-row true x y e = absurd (cc e)
no-row false x y e = refl

no-later-row : {X : Type 0} (b : Bool) (x : X) (y : Option X) → (if b then Some x else y) ≡ None → y ≡ None
no-later-row true x y e = absurd (cc e)
no-later-row false x y e = e

first-unbound : (o : EnvOptions) (F : List Declared) (up : List ℕ) (k : AstType) (l : Label) (fs : Fields) → shape_at o F up k l fs ≡ None → is_math_bound o F up k l fs ≡ false
first-unbound o F up k l fs h = no-row (is_math_bound o F up k l fs) _ _ (no-later-row (is_unbuilt o F up k l fs) _ _ h)

second-unbound : (o : EnvOptions) (F : List Declared) (up : List ℕ) (k : AstType) (l : Label) (fs : Fields) → shape_at o F up k l fs ≡ None → is_helper_bound o F up k l fs ≡ false
second-unbound o F up k l fs h = no-row (is_helper_bound o F up k l fs) _ _ (no-later-row (is_math_bound o F up k l fs) _ _ (no-later-row (is_unbuilt o F up k l fs) _ _ h))

-- NAMES THAT ARE ASKED FOR

not-bound : (asked power bound : Bool) → (asked && power && bound) ≡ false → (not (asked && power) || not bound) ≡ true
not-bound false power bound e = refl
not-bound true false bound e = refl
not-bound true true false e = refl
not-bound true true true e = absurd (true≢false e)

none-asked : (asked bound : Bool) → (not (asked && false) || bound) ≡ true
none-asked true bound = refl
none-asked false bound = refl

-- where a helper copies properties, `babelHelpers` finds nothing
copied-unbound : (asked copied bound declared binds : Bool) → (asked && ((copied && bound) || (declared && binds))) ≡ false → (asked && copied && bound) ≡ false
copied-unbound true true true declared binds e = absurd (cc e)
copied-unbound true true false declared binds e = refl
copied-unbound true false bound declared binds e = refl
copied-unbound false copied bound declared binds e = refl

abbrev is_unbound_where : Bool → Option ℕ → Bool
is_unbound_where asked found = not asked || not (is_some found)

-- both names are unbound where they are asked for
abbrev names_free : EnvOptions → Site → AstType → Label → Fields → Bool
names_free o n k l fs = is_power_free o n k l fs && is_copy_free o n k l fs

module _ (o : EnvOptions) (F : List Declared) where
  own-free : (p : Place) (n : ℕ) (s m : Site) (k : AstType) (l : Label) (fs : Fields) → FindsAlike F p s → m.names.scope ≡ s.names.scope → shape_at o F p.around k l fs ≡ None →
      names_free o m k (marked l (own_symbols F p n k l fs)) (resolved_in F (place_in p n k l fs) (n + own_scope_count k fs) fs) ≡ true
  own-free p n s m k l fs found same none =
      let ps = place_in p n k l fs in
      let next = n + own_scope_count k fs in
      let marks = own_symbols F p n k l fs in
      let look : (x : Text) → m.names.scope x ≡ find F p.around x = λ x. (λ i. same i x) ∙ found.scope x in
      let power = (λ i. is_unbound_where (o.es2016.exponentiation_operator && power-kept F ps next k l marks fs i) (look (codes "Math") i)) ∙
      not-bound o.es2016.exponentiation_operator (is_exponentiation k l fs) (is_some (find F p.around (codes "Math"))) (first-unbound o F p.around k l fs none) in
      let asked = is_some o.es2018.object_rest_spread in
      let bound = is_some (find F p.around (codes "babelHelpers")) in
      let unbound = copied-unbound asked (is_copied k l fs) bound (is_rest_declaration k l fs) (binds_helpers F) (second-unbound o F p.around k l fs none) in
      let copy = (λ i. is_unbound_where (asked && copied-kept F ps next k l marks fs i) (look (codes "babelHelpers") i)) ∙ not-bound asked (is_copied k l fs) bound unbound in
      and_from (is_power_free o m k (marked l marks) (resolved_in F ps next fs)) (is_copy_free o m k (marked l marks) (resolved_in F ps next fs)) power copy

  -- the site of the body of an arrow is near that of its field
  near-body : (last : Bool) (p : Place) (n : ℕ) (s m : Site) (t : Tree) → Placed ArrowFunctionExpression last t → s.role ≡ reads → Near true s m → (b : Bool) → is_statement_body (resolved_tree F p n t) ≡ b →
      Near (is_var_scope (kind_of t)) s (body_site m b (resolved_tree F p n t))
  near-body last p n s m t placed reading near true is = near-any (is_var_scope (kind_of t)) s m near
  near-body last p n s m (node k l fs) placed reading near false is = record {
    role = sym reading;
    scope = near.scope;
    parameters = λ e. absurd (true≢false (sym e ∙ body-kind last k (marked l (own_symbols F p n k l fs)) (resolved_in F (place_in p n k l fs) (n + own_scope_count k fs) fs) placed.0 is));
  }

  mutual
    free-tree : (above : AstType) (last : Bool) (p : Place) (n : ℕ) (s m : Site) (t : Tree) → Placed above last t → SideBySide (FindsAlike F) p n s t (resolved_tree F p n t) → Near (is_var_scope (kind_of t)) s m → FindsNone o F (visits p n t) →
        each_passes (names_free o) m (resolved_tree F p n t) ≡ true
    free-tree above last p n s m (node k l fs) placed beside near none =
        let gs = resolved_in F (place_in p n k l fs) (n + own_scope_count k fs) fs in
        let lbl = marked l (own_symbols F p n k l fs) in
        let both = found-none o F (record { place = p; next = n; kind = k; label = l; fields = fs }) (visits_in_fields (place_in p n k l fs) (n + own_scope_count k fs) fs) none in
        and_from (names_free o m k lbl gs) (each_passes_in (names_free o) (site_in m k lbl (opened_fields (is_body k) gs)) (is_body k) gs)
        (own-free p n s m k l fs beside.0 near.scope both.0)
        (free-in k (place_in p n k l fs) (n + own_scope_count k fs) (site_in s k lbl (opened_fields (is_body k) gs)) (site_in m k lbl (opened_fields (is_body k) gs)) (is_body k) fs placed.2 beside.1
        (near-in k s m lbl (opened_fields (is_body k) gs) near) (λ i e. (arrow-body k i e, body-role s.role k lbl (finished_fields (opened_fields (is_body k) gs)) i e)) both.1)

    free-in : (k : AstType) (ps : ℕ → Place) (n : ℕ) (ss ms : ℕ → Site) (bodies : ℕ → Bool) (fs : Fields) → PlacedIn k fs → SideBySideIn (FindsAlike F) ps n ss fs (resolved_in F ps n fs) → ((i : ℕ) → Near true (ss i) (ms i)) →
        ((i : ℕ) → bodies i ≡ true → (k ≡ ArrowFunctionExpression) × ((ss i).role ≡ reads)) → FindsNone o F (visits_in_fields ps n fs) → each_passes_in (names_free o) ms bodies (resolved_in F ps n fs) ≡ true
    free-in k ps n ss ms bodies done placed beside near body none = refl
    free-in k ps n ss ms bodies (f then fs) placed beside near body none =
        let both = each-none o F (visits_in_field (ps zero) n f) (visits_in_fields (λ i. ps (suc i)) (n + scope_count_in_field f) fs) none in
        let gs = resolved_in F (λ i. ps (suc i)) (n + scope_count_in_field f) fs in
        and_from (each_passes_by (names_free o) (ms zero) (bodies zero) (resolved_by F (ps zero) n f)) (each_passes_in (names_free o) (λ i. ms (suc i)) (λ i. bodies (suc i)) gs)
        (free-by k (is_last fs) (ps zero) n (ss zero) (ms zero) (bodies zero) f placed.0 beside.0 (near zero) (body zero) both.0)
        (free-in k (λ i. ps (suc i)) (n + scope_count_in_field f) (λ i. ss (suc i)) (λ i. ms (suc i)) (λ i. bodies (suc i)) fs placed.1 beside.1 (λ i. near (suc i)) (λ i. body (suc i)) both.1)

    free-by : (k : AstType) (last : Bool) (p : Place) (n : ℕ) (s m : Site) (b : Bool) (f : Field) → PlacedBy k last f → SideBySideBy (FindsAlike F) p n s f (resolved_by F p n f) → Near true s m →
        (b ≡ true → (k ≡ ArrowFunctionExpression) × (s.role ≡ reads)) → FindsNone o F (visits_in_field p n f) → each_passes_by (names_free o) m b (resolved_by F p n f) ≡ true
    free-by k last p n s m true missing placed beside near body none = refl
    free-by k last p n s m false missing placed beside near body none = refl
    free-by k last p n s m true (one t) placed beside near body none =
        let arrow = body refl in
        let placed_so = subst (λ (z : AstType). Placed z last t) arrow.0 placed in
        let u = resolved_tree F p n t in
        free-tree ArrowFunctionExpression last p n s (body_site m (is_statement_body u) u) t placed_so beside (near-body last p n s m t placed_so arrow.1 near (is_statement_body u) refl) none
    free-by k last p n s m false (one t) placed beside near body none = free-tree k last p n s m t placed beside (near-any (is_var_scope (kind_of t)) s m near) none
    free-by k last p n s m true (many ts) placed beside near body none = free-all k p n s m ts placed beside near none
    free-by k last p n s m false (many ts) placed beside near body none = free-all k p n s m ts placed beside near none
    free-by k last p n s m true (statements ts) placed beside near body none = free-all k p n s m ts placed beside near none
    free-by k last p n s m false (statements ts) placed beside near body none = free-all k p n s m ts placed beside near none

    free-all : (k : AstType) (p : Place) (n : ℕ) (s m : Site) (ts : Trees) → PlacedAll k ts → SideBySideAll (FindsAlike F) p n s ts (resolved_among F p n ts) → Near true s m → FindsNone o F (visits_in_trees p n ts) →
        each_passes_among (names_free o) m (resolved_among F p n ts) ≡ true
    free-all k p n s m empty placed beside near none = refl
    free-all k p n s m (t before ts) placed beside near none =
        let both = each-none o F (visits p n t) (visits_in_trees p (n + scope_count_in t) ts) none in
        and_from (each_passes (names_free o) m (resolved_tree F p n t)) (each_passes_among (names_free o) m (resolved_among F p (n + scope_count_in t) ts))
        (free-tree k false p n s m t placed.0 beside.0 (near-any (is_var_scope (kind_of t)) s m near) both.0)
        (free-all k p (n + scope_count_in t) s m ts placed.1 beside.1 near both.1)

-- THE PROGRAM

program-free : (o : EnvOptions) (l : Label) (fs : Fields) → PlacedIn Program fs → InProgram (FindsAlike (symbols_of (node Program l fs))) (node Program l fs) (resolved (node Program l fs)) → FindsNone o (symbols_of (node Program l fs)) (visits (outermost (node Program l fs)) 1 (node Program l fs)) →
    each_passes (names_free o) the_program (resolved (node Program l fs)) ≡ true
program-free o l fs placed beside none =
    let p = node Program l fs in
    let F = symbols_of p in
    let ps = place_in (outermost p) 1 Program l fs in
    let gs = resolved_in F ps 1 fs in
    let lbl = marked l [] in
    let sites = site_in the_program Program lbl (opened_fields (is_body Program) gs) in
    let both = found-none o F (record { place = outermost p; next = 1; kind = Program; label = l; fields = fs }) (visits_in_fields ps 1 fs) none in
    and_from (names_free o the_program Program lbl gs) (each_passes_in (names_free o) sites (is_body Program) gs)
    (and_from (is_power_free o the_program Program lbl gs) (is_copy_free o the_program Program lbl gs) (none-asked o.es2016.exponentiation_operator _) (none-asked (is_some o.es2018.object_rest_spread) _))
    (free-in o F Program ps 1 sites sites (is_body Program) fs placed beside (λ i. near-self (sites i)) (λ i e. absurd (cc e)) both.1)

resolved-free : (o : EnvOptions) (p : Tree) → IsWellPlaced p → InProgram (FindsAlike (symbols_of p)) p (resolved p) → FindsNone o (symbols_of p) (visits (outermost p) 1 p) → each_passes (names_free o) the_program (resolved p) ≡ true
resolved-free o (node Program l fs) placed beside none = program-free o l fs placed.1 beside none
resolved-free o (node k l fs) placed beside none = absurd (cc (placed.0))

names-free : (o : EnvOptions) (p : Tree) → has_form s-Program p ≡ true → first_unsupported o p ≡ None → each_passes (names_free o) the_program (source p) ≡ true
names-free o p form none =
    let same = source-resolved p in
    let beside = subst (λ (u : Tree). InProgram (FindsAlike (symbols_of p)) p u) same (law_source_sites_proof p form) in
    subst (λ (u : Tree). each_passes (names_free o) the_program u ≡ true) (sym same) (resolved-free o p (form-placed p form) beside (taken-shapes o p none))

-- BOTH TESTS at each node

module _ (a b : Site → AstType → Label → Fields → Bool) where
  abbrev both_tests : Site → AstType → Label → Fields → Bool
  both_tests n k l fs = a n k l fs && b n k l fs

  mutual
    both-pass : (n : Site) (t : Tree) → each_passes a n t ≡ true → each_passes b n t ≡ true → each_passes both_tests n t ≡ true
    both-pass n (node k l fs) h g =
        let sites = site_in n k l (opened_fields (is_body k) fs) in
        let x = and_parts (a n k l fs) (each_passes_in a sites (is_body k) fs) h in
        let y = and_parts (b n k l fs) (each_passes_in b sites (is_body k) fs) g in
        and_from (both_tests n k l fs) (each_passes_in both_tests sites (is_body k) fs) (and_from (a n k l fs) (b n k l fs) x.0 y.0) (both-in sites (is_body k) fs x.1 y.1)

    both-in : (sites : ℕ → Site) (bodies : ℕ → Bool) (fs : Fields) → each_passes_in a sites bodies fs ≡ true → each_passes_in b sites bodies fs ≡ true → each_passes_in both_tests sites bodies fs ≡ true
    both-in sites bodies done h g = refl
    both-in sites bodies (f then fs) h g =
        let x = and_parts (each_passes_by a (sites zero) (bodies zero) f) (each_passes_in a (λ i. sites (suc i)) (λ i. bodies (suc i)) fs) h in
        let y = and_parts (each_passes_by b (sites zero) (bodies zero) f) (each_passes_in b (λ i. sites (suc i)) (λ i. bodies (suc i)) fs) g in
        and_from (each_passes_by both_tests (sites zero) (bodies zero) f) (each_passes_in both_tests (λ i. sites (suc i)) (λ i. bodies (suc i)) fs) (both-by (sites zero) (bodies zero) f x.0 y.0) (both-in (λ i. sites (suc i)) (λ i. bodies (suc i)) fs x.1 y.1)

    both-by : (n : Site) (c : Bool) (f : Field) → each_passes_by a n c f ≡ true → each_passes_by b n c f ≡ true → each_passes_by both_tests n c f ≡ true
    both-by n true missing h g = refl
    both-by n false missing h g = refl
    both-by n true (one t) h g = both-pass (body_site n (is_statement_body t) t) t h g
    both-by n false (one t) h g = both-pass n t h g
    both-by n true (many ts) h g = both-among n ts h g
    both-by n false (many ts) h g = both-among n ts h g
    both-by n true (statements ts) h g = both-among n ts h g
    both-by n false (statements ts) h g = both-among n ts h g

    both-among : (n : Site) (ts : Trees) → each_passes_among a n ts ≡ true → each_passes_among b n ts ≡ true → each_passes_among both_tests n ts ≡ true
    both-among n empty h g = refl
    both-among n (t before ts) h g =
        let x = and_parts (each_passes a n t) (each_passes_among a n ts) h in
        let y = and_parts (each_passes b n t) (each_passes_among b n ts) g in
        and_from (each_passes both_tests n t) (each_passes_among both_tests n ts) (both-pass n t x.0 y.0) (both-among n ts x.1 y.1)

-- THE LAW

-- a program is no chain, and brings nothing about
program-kind : (k : AstType) (l : Label) (fs : Fields) → has_form s-Program (node k l fs) ≡ true → k ≡ Program
program-kind Program l fs h = refl
program-kind k l fs h = absurd (true≢false (sym (node_form s-Program k l fs h).sort))

no-chain : (t : Tree) → has_form s-Program t ≡ true → is_chain_inside t ≡ false
no-chain (node k l fs) h = at k (program-kind k l fs h)
  where
    at : (k : AstType) → k ≡ Program → is_chain_inside (node k l fs) ≡ false
    at k e = subst (λ (k : AstType). is_chain_inside (node k l fs) ≡ false) (sym e) refl

settled : (o : EnvOptions) (t : Tree) → has_form s-Program t ≡ true → is_settled o t ≡ true
settled o (node k l fs) h = subst (λ (k : AstType). is_settled o (node k l fs) ≡ true) (sym (program-kind k l fs h)) (none-where o.es2020.optional_chaining false (λ on. refl))

pub law_first_conditions_proof : LawFirstConditions
law_first_conditions_proof o p form right none =
    let u = source p in
    let keeps = (law_places_proof p).to_places (law_among_proof p right) in
    let same = source-bare p in
    let chains = sym (passes-bare o the_program the_program u (alike-self o the_program)) ∙ (ap (each_passes (chain_test o) the_program) same ∙ (passes-bare o the_program the_program p (alike-self o the_program) ∙ placed-tree o s-Program [] the_program p form keeps (λ c. absurd (true≢false (sym c ∙ no-chain p form))))) in
    let placed = both-pass (names_free o) (chain_test o) the_program u (names-free o p form none) chains in
    let tidy = sym (strays-bare false u) ∙ (ap (strays false) same ∙ (strays-bare false p ∙ tidy-tree [] p keeps)) in
    let full = sym (full-bare u) ∙ (ap (any_node is_unmarked_chain) same ∙ (full-bare p ∙ full-tree [] p keeps)) in
    let known = is-known o the_program u (record { placed = placed; marked = record { tidy = λ on. tidy; full = λ on. full }; value = λ on c. absurd (true≢false (sym c ∙ no-chain u (source-form p form))); past = none-where o.es2020.optional_chaining false (λ on. refl) }) in
    and_from (is_wrapped o the_program u) (is_settled o u) (and_from (holds_none_where false o u) (is_known o the_program u) refl known) (settled o u (source-form p form))
