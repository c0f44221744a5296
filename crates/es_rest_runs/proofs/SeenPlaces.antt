-- What is known of each place in a program whose names are bound, where trees differ whose scopes grow: what names find there, and what stands there.
use Rattle.std.proofs.Common.{◌≡◌, ℕ, zero, suc, refl, sym, ap, ◌∙◌, List, ◌++◌}
use Rattle.std.proofs.lemmas.Bool.{and_parts, or_parts}
use Rattle.std.specs.Prelude.{Bool, true, false, ◌||◌, Option, is_some}
use Rattle.es_tree.specs.HasForm.{has_form, sort_at}
use Rattle.es_tree.specs.Scopes.{Declared, declares}
use Rattle.es_tree.specs.Tree.{Tree, node, Label, Fields, done, ◌then◌, Field, missing, one, many, statements, Trees, empty, ◌before◌, kind_of}
use Rattle.es_tree.specs.Walks.{all_nodes, all_in_fields}
use Rattle.es_tree.specs.Words.{Text}
use Rattle.es_tree.specs.declared.ast_type.AstType.{AstType}
use Rattle.es_tree.specs.declared.ast_type.AstType.TheVariants.{ArrowFunctionExpression, BlockStatement, CatchClause, ClassDeclaration, ClassExpression, ForInStatement, ForOfStatement, ForStatement, FunctionBody, FunctionDeclaration, FunctionExpression, PatternProperty, Program, StaticBlock, SwitchStatement}
use Rattle.es_tree.specs.declared.table.Sort.TheVariants.{PropertyKey as s-PropertyKey}
use Rattle.es_runs.specs.Alike.{Level}
use Rattle.es_semantic.specs.RolesOf.{reads, role_at}
use Rattle.es_semantic.specs.declared.place.Role.{Role}
use Rattle.es_resolution.specs.Named.{Named}
use Rattle.es_resolution.specs.Resolved.{Place, Resolved, nowhere, place_in}
use Rattle.es_resolution.specs.Written.{is_written_in, own_writes}
use Rattle.es_resolution.proofs.AllForms.{All, AllAmong, AllBy, AllIn}
use Rattle.es_steps.specs.Nodes.{joined_trees}
use Rattle.es_steps.specs.Steps.{Whole}
use Rattle.es_statement_runs.specs.BareVars.{names_around}
use Rattle.es_statement_runs.specs.Laws.{among_names}
use Rattle.es_statement_runs.specs.Names.{cases_names, lexical_in, lexical_names, own_names, tops}
use Rattle.es_statement_runs.specs.Places.{Take}
use Rattle.es_statement_runs.specs.Programs.{is_statement_kind, names_no_cell}
use Rattle.es_statement_steps.proofs.Below.{Below, BelowField, BelowTrees, both_below, nodes_below}
use Rattle.es_statement_steps.proofs.DeclaredNames.{declares_append, from_children}
use Rattle.es_statement_steps.proofs.FoundNames.{Finds, finds_inside, finds_top, resolved_below}
use Rattle.es_statement_steps.proofs.FreshNames.{named_below}
use Rattle.es_statement_steps.proofs.Stands.{is_program, standing, stands}
use Rattle.es_statement_steps.proofs.SteadyNames.{NoneWritten, none_below}
use Rattle.es_split_runs.specs.Growing.{Grown, GrownField, GrownFields, GrownTrees, NamesMore}
use Rattle.es_split_runs.specs.Growing.Grown.{at_place, in_block, in_for, in_node, in_switch}
use Rattle.es_split_runs.specs.Growing.GrownField.{grown_many, grown_missing, grown_one, grown_statements}
use Rattle.es_split_runs.specs.Growing.GrownFields.{grown_done, grown_then}
use Rattle.es_split_runs.specs.Growing.GrownTrees.{grown_before, grown_empty}
use Rattle.es_split_runs.proofs.GrownScopes.{same_names}
use Rattle.es_rest_runs.specs.Laws.{keeps_made}
use Rattle.es_rest_runs.proofs.GrownNames.{more_append}

-- the key of a property has the form of its place
abbrev pub KeyFormed : AstType → Label → Fields → Type 0
KeyFormed PatternProperty l (one k then fs) = has_form (sort_at PatternProperty l s-PropertyKey) k ≡ true
KeyFormed k l fs = Unit {0}

all_trees : (ts : Trees) → AllAmong KeyFormed ts → BelowTrees (λ t. All KeyFormed t) ts
all_trees empty h = tt
all_trees (t before ts) h = (h.0, all_trees ts h.1)

all_field : (f : Field) → AllBy KeyFormed f → BelowField (λ t. All KeyFormed t) f
all_field missing h = tt
all_field (one t) h = h
all_field (many ts) h = all_trees ts h
all_field (statements ts) h = all_trees ts h

all_below : (fs : Fields) → AllIn KeyFormed fs → Below (λ i t. All KeyFormed t) fs
all_below done h = tt
all_below (f then fs) h = (all_field f h.0, all_below fs h.1)

-- WHAT IS KNOWN of a tree at its place
pub record Known (w : Whole) (r : Role) (p : Place) (t : Tree) : Type 0 where
  pub resolved : Resolved r p t
  pub named : Named w.in_use w.free_symbol r t
  pub unwritten : NoneWritten (λ m. w.steady m ≡ true) r t
  pub fine : all_nodes stands t ≡ true
  pub cells : all_nodes names_no_cell t ≡ true
  pub sources : all_nodes (keeps_made w.made) t ≡ true
  pub keys : All KeyFormed t

pub known_below : (w : Whole) (r : Role) (p : Place) (k : AstType) (l : Label) (fs : Fields) → Known w r p (node k l fs) → Below (λ i t. Known w (role_at r k l fs i) (place_in p k l (role_at r k l fs) fs i) t) fs
known_below w r p k l fs h =
    let roles = role_at r k l fs in
    let places = place_in p k l roles fs in
    let S = λ (m : ℕ). w.steady m ≡ true in
    from_children k l fs
    (λ i t. Resolved (roles i) (places i) t × (Named w.in_use w.free_symbol (roles i) t × (NoneWritten S (roles i) t × ((all_nodes names_no_cell t ≡ true) × ((all_nodes (keeps_made w.made) t ≡ true) × All KeyFormed t)))))
    (λ i t. Known w (roles i) (places i) t) (standing k l fs h.fine)
    (both_below (λ i t. Resolved (roles i) (places i) t) (λ i t. Named w.in_use w.free_symbol (roles i) t × (NoneWritten S (roles i) t × ((all_nodes names_no_cell t ≡ true) × ((all_nodes (keeps_made w.made) t ≡ true) × All KeyFormed t)))) fs (resolved_below roles places fs h.resolved.2)
    (both_below (λ i t. Named w.in_use w.free_symbol (roles i) t) (λ i t. NoneWritten S (roles i) t × ((all_nodes names_no_cell t ≡ true) × ((all_nodes (keeps_made w.made) t ≡ true) × All KeyFormed t))) fs (named_below w.in_use w.free_symbol roles fs h.named.1)
    (both_below (λ i t. NoneWritten S (roles i) t) (λ i t. (all_nodes names_no_cell t ≡ true) × ((all_nodes (keeps_made w.made) t ≡ true) × All KeyFormed t)) fs
    (none_below S roles fs (λ m e. (or_parts (own_writes m r k l) (is_written_in m roles fs) (h.unwritten m e)).1))
    (both_below (λ i t. all_nodes names_no_cell t ≡ true) (λ i t. (all_nodes (keeps_made w.made) t ≡ true) × All KeyFormed t) fs (nodes_below names_no_cell fs (and_parts (names_no_cell k l fs) (all_in_fields names_no_cell fs) h.cells).1)
    (both_below (λ i t. all_nodes (keeps_made w.made) t ≡ true) (λ i t. All KeyFormed t) fs (nodes_below (keeps_made w.made) fs (and_parts (keeps_made w.made k l fs) (all_in_fields (keeps_made w.made) fs) h.sources).1) (all_below fs h.keys.1))))))
    (λ i t q c. record { resolved = q.0; named = q.1.0; unwritten = q.1.1.0; fine = c.nodes; cells = q.1.1.1.0; sources = q.1.1.1.1.0; keys = q.1.1.1.1.1 })

-- a list of such trees, of which these stand behind others
pub known_joined : (w : Whole) (r : Role) (p : Place) (a c : Trees) → BelowTrees (Known w r p) (joined_trees a c) → BelowTrees (Known w r p) c
known_joined w r p empty c h = h
known_joined w r p (d before a) c h = known_joined w r p a c h.1

-- WHAT NAMES FIND, where the names around are these and those of the second tree more
pub record Seen (w : Whole) (xs : List Text) (ds : List Declared) (t : Tree) : Type 0 where
  pub role : Role
  pub place : Place
  pub around : List Declared
  pub found : Finds around place
  pub hoisted : (x : Text) → is_some (place.hoist x) ≡ true → declares around x ≡ true
  pub more : NamesMore (among_names xs) around ds
  pub known : Known w role place t
  pub program : is_program (kind_of t) ≡ false

or_so : (b : Bool) → (b || true) ≡ true
or_so true = refl
or_so false = refl

behind : (es ds : List Declared) (x : Text) → declares ds x ≡ true → declares (es ++ ds) x ≡ true
behind es ds x h = declares_append x es ds ∙ ap (λ b. declares es x || b) h ∙ or_so (declares es x)

around_declares : (k : AstType) (es ds : List Declared) (i : ℕ) (x : Text) → declares ds x ≡ true → declares (names_around k es ds i) x ≡ true
around_declares BlockStatement es ds i x h = behind es ds x h
around_declares ForStatement es ds i x h = behind es ds x h
around_declares ForInStatement es ds i x h = behind es ds x h
around_declares ForOfStatement es ds i x h = behind es ds x h
around_declares CatchClause es ds i x h = behind es ds x h
around_declares SwitchStatement es ds zero x h = h
around_declares SwitchStatement es ds (suc i) x h = behind es ds x h
around_declares _ es ds i x h = h

-- `var` declares at the top, whatever stands around
hoist_at : (p : Place) (k : AstType) (l : Label) (roles : ℕ → Role) (fs : Fields) (i : ℕ) → is_statement_kind k ≡ true → is_program k ≡ false → (place_in p k l roles fs i).hoist ≡ p.hoist
hoist_at p Program l roles fs i c n = absurd (cc n)
hoist_at p StaticBlock l roles fs i c n = absurd (cc c)
hoist_at p FunctionDeclaration l roles fs i c n = absurd (cc c)
hoist_at p FunctionExpression l roles fs i c n = absurd (cc c)
hoist_at p FunctionBody l roles fs i c n = absurd (cc c)
hoist_at p ArrowFunctionExpression l roles fs i c n = absurd (cc c)
hoist_at p ClassDeclaration l roles fs i c n = absurd (cc c)
hoist_at p ClassExpression l roles fs i c n = absurd (cc c)
hoist_at p _ l roles fs i c n = refl

module _ (w : Whole) (xs : List Text) where
  abbrev More : List Declared → List Declared → Type 0
  More = NamesMore (among_names xs)

  abbrev pub See : List Declared → Tree → Type 0
  See ds t = Seen w xs ds t

  around_more : (k : AstType) (i : ℕ) {es fs ds cs : List Declared} → More es fs → More ds cs → More (names_around k es ds i) (names_around k fs cs i)
  around_more BlockStatement i h g = more_append xs h g
  around_more ForStatement i h g = more_append xs h g
  around_more ForInStatement i h g = more_append xs h g
  around_more ForOfStatement i h g = more_append xs h g
  around_more CatchClause i h g = more_append xs h g
  around_more SwitchStatement zero h g = g
  around_more SwitchStatement (suc i) h g = more_append xs h g
  around_more _ i h g = g

  -- inwards
  seen_below : (r : Role) (p : Place) (k : AstType) (l : Label) (fs : Fields) (around d : ℕ → List Declared) → ((i : ℕ) → Finds (around i) (place_in p k l (role_at r k l fs) fs i)) →
      ((i : ℕ) (x : Text) → is_some ((place_in p k l (role_at r k l fs) fs i).hoist x) ≡ true → declares (around i) x ≡ true) → ((i : ℕ) → More (around i) (d i)) → Known w r p (node k l fs) → Below (λ i t. See (d i) t) fs
  seen_below r p k l fs around d found hoisted more h =
      let roles = role_at r k l fs in
      let places = place_in p k l roles fs in
      from_children k l fs (λ i t. Known w (roles i) (places i) t) (λ i t. See (d i) t) (standing k l fs h.fine) (known_below w r p k l fs h)
      (λ i t q c. record { role = roles i; place = places i; around = around i; found = found i; hoisted = hoisted i; more = more i; known = q; program = c.stands_there.program })

  inward : (ds : List Declared) (k : AstType) (l : Label) (fs : Fields) (es : List Declared) → More (own_names k fs) es → See ds (node k l fs) → Below (λ i t. See (names_around k es ds i) t) fs
  inward ds k l fs es names s =
      let st = standing k l fs s.known.fine in
      let roles = role_at s.role k l fs in
      seen_below s.role s.place k l fs (names_around k (own_names k fs) s.around) (names_around k es ds)
      (λ i. finds_inside s.around s.place s.role k l fs i s.found s.program s.known.fine s.known.resolved.2)
      (λ i x e. around_declares k (own_names k fs) s.around i x (s.hoisted x (sym (ap (λ (f : Text → Option ℕ). is_some (f x)) (hoist_at s.place k l roles fs i st.class s.program)) ∙ e)))
      (λ i. around_more k i names s.more) s.known

  -- at the top of a program
  pub seen_top : (l : Label) (fs : Fields) (ds : List Declared) → More (tops fs) ds → Known w reads nowhere (node Program l fs) → Below (λ i t. See ds t) fs
  seen_top l fs ds more h =
      seen_below reads nowhere Program l fs (λ i. tops fs) (λ i. ds) (λ i. finds_top l fs i h.fine h.resolved) (λ i x e. sym (finds_top l fs i h.fine h.resolved x) ∙ e) (λ i. more) h

  -- WITH ROWS
  module _ (bad : Level → Text → Bool) (R : List Declared → Take → Tree → Tree → Type 0) where
    abbrev pub SeenRow : List Declared → Take → Tree → Tree → Type 0
    SeenRow ds t a b = R ds t a b × See ds a

    mutual
      seen : {ds : List Declared} {t : Take} {a b : Tree} → Grown bad (among_names xs) R ds t a b → See ds a → Grown bad (among_names xs) SeenRow ds t a b
      seen (at_place h) s = at_place (h, s)
      seen (in_node {ds = ds} {k = k} {l = l} {fs = fs} e1 e2 e3 e4 e5 e6 e7 h) s = in_node e1 e2 e3 e4 e5 e6 e7 (seen_fields h (inward ds k l fs (own_names k fs) (same_names (among_names xs) (own_names k fs)) s))
      seen (in_block {ds = ds} {l = l} {ts = ts} {us = us} names uses good h) s = in_block names uses good (seen_trees h (inward ds BlockStatement l (statements ts then done) (lexical_in us) names s).0)
      seen (in_for {ds = ds} {l = l} {a = a} {b = b} {f = f} {g = g} {h = h} names uses good r) s =
          in_for names uses good (seen_fields r (inward ds ForStatement l (one a then (f then (g then (h then done)))) (lexical_names b) names s))
      seen (in_switch {ds = ds} {l = l} {a = a} {cs = cs} {es = es} names uses good h hs) s =
          let below = inward ds SwitchStatement l (one a then (many cs then done)) (cases_names es) names s in
          in_switch names uses good (seen h below.0) (seen_trees hs below.1.0)

      seen_fields : {d : ℕ → List Declared} {c : ℕ → Take} {fs gs : Fields} → GrownFields bad (among_names xs) R d c fs gs → Below (λ i t. See (d i) t) fs → GrownFields bad (among_names xs) SeenRow d c fs gs
      seen_fields grown_done p = grown_done
      seen_fields (grown_then h hs) p = grown_then (seen_field h p.0) (seen_fields hs p.1)

      seen_field : {ds : List Declared} {t : Take} {f g : Field} → GrownField bad (among_names xs) R ds t f g → BelowField (See ds) f → GrownField bad (among_names xs) SeenRow ds t f g
      seen_field grown_missing p = grown_missing
      seen_field (grown_one h) p = grown_one (seen h p)
      seen_field (grown_many h) p = grown_many (seen_trees h p)
      seen_field (grown_statements h) p = grown_statements (seen_trees h p)

      pub seen_trees : {ds : List Declared} {t : Take} {ts us : Trees} → GrownTrees bad (among_names xs) R ds t ts us → BelowTrees (See ds) ts → GrownTrees bad (among_names xs) SeenRow ds t ts us
      seen_trees grown_empty p = grown_empty
      seen_trees (grown_before h hs) p = grown_before (seen h p.0) (seen_trees hs p.1)
