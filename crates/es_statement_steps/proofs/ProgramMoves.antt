-- A step of a rule of nodes in a program: its list is the same but at that place, and but for temporaries.
use Rattle.std.proofs.Common.{◌≡◌, ℕ, zero, suc, refl, sym, ap, subst, ◌∙◌, List}
use Rattle.std.specs.Prelude.{Bool, true, false, Option}
use Rattle.es_tree.specs.HasForm.{has_form}
use Rattle.es_tree.specs.Tree.{Tree, node, Label, Fields, done, ◌then◌, Field, missing, one, many, statements, Trees, kind_of}
use Rattle.es_tree.specs.declared.ast_type.AstType.{AstType}
use Rattle.es_tree.specs.declared.ast_type.AstType.TheVariants.{Program}
use Rattle.es_tree.specs.declared.table.Sort.TheVariants.{Program as s-Program}
use Rattle.es_tree.proofs.NodeForm.{node_form}
use Rattle.es_runs.specs.Alike.{the_value}
use Rattle.es_runs.specs.Runs.{program}
use Rattle.es_resolution.specs.Declarations.{Bound}
use Rattle.es_resolution.specs.Resolved.{IsResolved, ResolvedIn}
use Rattle.es_resolution.proofs.Forms.{form-placed}
use Rattle.es_steps.specs.Open.{Additions, Pending, Open, OpenField, OpenFields, OpenTrees, finished, finished_field, finished_fields, finished_trees, is_body, pending_statements, whole_list}
use Rattle.es_steps.specs.Open.OpenFields.{ends, ◌and◌}
use Rattle.es_steps.specs.Open.OpenField.{list}
use Rattle.es_steps.specs.Steps.{FieldStep, FieldsStep, Ledger, Site, Spot, Step, TreesStep, Whole, ledger, is_program_list, is_target, site_in, the_program}
use Rattle.es_steps.specs.Steps.Spot.{at_beside, at_body, at_list, at_node}
use Rattle.es_steps.specs.Steps.Step.{acts, inside}
use Rattle.es_steps.specs.Steps.FieldsStep.{in_first, in_later}
use Rattle.es_steps.specs.Steps.FieldStep.{acts_on_body, acts_on_list, in_body, in_child, in_children, in_list, in_program, in_target}
use Rattle.es_steps.specs.Steps.TreesStep.{acts_on_flanked, after_flanked, flanks, in_flanked, in_head, in_tail}
use Rattle.es_steps.proofs.FormOpen.{AreProperFields, AreProperTrees, IsProper, IsProperField}
use Rattle.es_steps.proofs.Opened.{finished-opened}
use Rattle.es_steps.proofs.Taken.{whole_in}
use Rattle.es_statement_runs.specs.Names.{top_in, tops, var_names_all}
use Rattle.es_statement_runs.specs.Places.{take}
use Rattle.es_statement_runs.specs.Programs.{is_without_functions}
use Rattle.es_statement_runs.proofs.Moved.{MovedList, Room, room_in}
use Rattle.es_statement_runs.proofs.Moved.Room.{open_room, closed_room}
use Rattle.es_statement_steps.proofs.Below.{Below, BelowField, BelowTrees}
use Rattle.es_statement_steps.proofs.FoundNames.{Finds, finds_top}
use Rattle.es_statement_steps.proofs.Rooms.{IsProgram, NoList, NoLists, Stood, closed-room, formed-inside, no-body, opened-here, program-fields, program-first, program-longer, program-second, shut-unlisted, stays_put, stood-inside, unlisted}
use Rattle.es_statement_steps.proofs.StepMoves.{Acted, AllDeclared, AreNew, Fine, Fresh, Listed, NodeRule, below-after, fine-inside, listed, resolved-after, sent, taken_at, trees-moved}

-- what a step makes of a program
pub record ProgramWent (hoisted : Bool) (M : List Bound → Trees → Trees → Type 0) (w : Whole) (x y : Tree) : Type 0 where
  pub label : Label
  pub directives : Trees
  pub body : Trees
  pub after : Trees
  pub first : x ≡ program label directives body
  pub second : y ≡ program label directives after
  pub new : List Bound
  pub are_new : AreNew w new
  pub moved : M new body after
  pub declared : AllDeclared (sent hoisted new) (var_names_all after)

closed-open : closed_room ≡ open_room → ⊥
closed-open e = absurd (cc e)

module _ (Q : Site → Ledger → Spot → Ledger → Spot → Type 0) (A : List Bound → Site → Whole → Tree → Tree → Type 0) (law : NodeRule Q A) where
  -- NO STEP in a closed room
  acts-nowhere : (o : AstType) (n : Site) (s s' : Ledger) (t u : Tree) → Q n s (at_node t) s' (at_node u) → Stood o closed_room t → ⊥
  acts-nowhere o n s s' t u h stood = let a = law.acting n s s' t u h in closed-open (opened-here closed_room (kind_of t) stood.room (law.acts_on a.new n (whole_in s) t u a.rule))

  closed-below : (k : AstType) (fs : Fields) → Below (λ i t. Stood k (room_in closed_room k i) t) fs → Below (λ i t. Stood k closed_room t) fs
  closed-below k fs h = subst (λ (rooms : ℕ → Room). Below (λ i t. Stood k (rooms i) t) fs) (λ j i. closed-room k i j) h

  mutual
    still : {n : Site} {s s' : Ledger} {t u : Open} → Step Q n s t s' u → (o : AstType) → IsProper t → Stood o closed_room (finished t) → ⊥
    still (acts {n = n} {s = s} {s' = s'} t u h) o proper stood = acts-nowhere o n s s' t u h (subst (λ (x : Tree). Stood o closed_room x) (finished-opened t) stood)
    still (inside {n = n} {k = k} {l = l} {fs = fs} h) o proper stood =
        still-in h k (is_body k) proper (no-body o closed_room k l (finished_fields fs) stood) (unlisted o closed_room k l (finished_fields fs) stood (shut-unlisted k stood.room)) (closed-below k (finished_fields fs) (stood-inside o closed_room k l (finished_fields fs) stood))

    still-in : {c : ℕ → Site} {s s' : Ledger} {fs gs : OpenFields} → FieldsStep Q c s fs s' gs → (o : AstType) (bodies : ℕ → Bool) → AreProperFields bodies fs → ((i : ℕ) → bodies i ≡ false) → NoLists (finished_fields fs) → Below (λ i t. Stood o closed_room t) (finished_fields fs) → ⊥
    still-in (in_first h) o bodies proper none lists stood = still-by h o (bodies zero) proper.0 (none zero) lists.0 stood.0
    still-in (in_later h) o bodies proper none lists stood = still-in h o (λ i. bodies (suc i)) proper.1 (λ i. none (suc i)) lists.1 stood.1

    still-by : {n : Site} {s s' : Ledger} {f g : OpenField} → FieldStep Q n s f s' g → (o : AstType) (b : Bool) → IsProperField b f → b ≡ false → NoList (finished_field f) → BelowField (Stood o closed_room) (finished_field f) → ⊥
    still-by (in_child h) o b proper none lists stood = still h o proper stood
    still-by (in_children h) o b proper none lists stood = still-all h o proper stood
    still-by (in_body e y y' h) o b proper none lists stood = absurd (let e : b ≡ true = proper.0 in cc (e, none))
    still-by (in_list e e' h) o b proper none lists stood = absurd lists
    still-by (in_target e h) o b proper none lists stood = absurd lists
    still-by (in_program e h) o b proper none lists stood = absurd lists
    still-by (acts_on_list ts us h) o b proper none lists stood = absurd lists
    still-by (acts_on_body {n = n} {s = s} {s' = s'} {p = p} t u h) o b proper none lists stood = absurd (law.nodes n s s' (at_body p t) (at_node u) h)

    still-all : {n : Site} {s s' : Ledger} {ts us : OpenTrees} → TreesStep Q n s ts s' us → (o : AstType) → AreProperTrees ts → BelowTrees (Stood o closed_room) (finished_trees ts) → ⊥
    still-all (in_head h) o proper stood = still h o proper.0 stood.0
    still-all (in_tail h) o proper stood = still-all h o proper.1 stood.1
    still-all (in_flanked h) o proper stood = absurd proper
    still-all (after_flanked h) o proper stood = absurd proper
    still-all (flanks {n = n} {s = s} {s' = s'} {bs = bs} {cs = cs} t u h) o proper stood = absurd (law.nodes n s s' (at_node t) (at_beside bs u cs) h)
    still-all (acts_on_flanked t us h) o proper stood = absurd proper

  -- THE PROGRAM

  abbrev pub MovedProgram : List Bound → Trees → Trees → Type 0
  MovedProgram new body after = MovedList (Fresh new) (Acted A new) open_room (top_in body) true body after

  in-list : {w w' : Whole} {p q : Pending} {y y' : Option Bound} {b b' : Additions} (l : Label) (f : Field) (ts us : Trees) → IsProgram (f then (statements (whole_list p y b ts) then done)) →
      Listed Q A law (ledger w p y b) (ledger w' q y' b') open_room (top_in (whole_list p y b ts)) true (whole_list p y b ts) (whole_list q y b us) →
      ProgramWent law.hoisted MovedProgram w (node Program l (f then (statements (whole_list p y b ts) then done))) (node Program l (f then (statements (whole_list q y' b' us) then done)))
  in-list l missing ts us shape h = absurd shape
  in-list l (one t) ts us shape h = absurd shape
  in-list l (statements t) ts us shape h = absurd shape
  in-list {w = w} {p = p} {q = q} {y = y} {y' = y'} {b = b} {b' = b'} l (many ds) ts us shape h =
      let made = λ (z : Option Bound) (c : Additions). ProgramWent law.hoisted MovedProgram w (node Program l (many ds then (statements (whole_list p y b ts) then done))) (node Program l (many ds then (statements (whole_list q z c us) then done))) in
      subst (λ (z : Option Bound). made z b') (sym h.this) (subst (λ (c : Additions). made y c) (sym h.top)
      (record { label = l; directives = ds; body = whole_list p y b ts; after = whole_list q y b us; first = refl; second = refl; new = h.new; are_new = h.are_new; moved = h.moved; declared = h.declared }))

  -- the list of a program, and its directives
  in-program : {s s' : Ledger} {fs gs : OpenFields} (l : Label) (n : ℕ → Site) → FieldsStep Q n s fs s' gs → AreProperFields (is_body Program) fs → IsProgram (finished_fields fs) → is_target (n 1).above ≡ false → is_program_list (n 1).above ≡ true → take the_value true ≡ taken_at (n 1).above →
      Below (λ i t. Stood Program (room_in open_room Program i) t) (finished_fields fs) → Below (λ i t. Fine t) (finished_fields fs) → Below (λ i t. Fine t) (finished_fields gs) → ResolvedIn (λ i. (n i).role) (λ i. (n i).names) (finished_fields fs) → ((i : ℕ) → Finds (tops (finished_fields fs)) (n i).names) →
      ProgramWent law.hoisted MovedProgram (whole_in s) (node Program l (finished_fields fs)) (node Program l (finished_fields gs))
  in-program l n (in_first {f = f} {fs = fs} h) proper shape target top taken stood fine after resolved found = absurd (still-by h Program false proper.0 refl (program-first (finished_field f) (finished_fields fs) shape) stood.0)
  in-program l n (in_later {f = f} (in_first {fs = ends} (in_program {p = p} {q = q} {y = y} {y' = y'} {b = b} {b' = b'} {ts = ts} {us = us} e h))) proper shape target top taken stood fine after resolved found =
      in-list l (finished_field f) (finished_trees ts) (finished_trees us) shape
      (listed Q A law Program y b proper.1.0.0 (trees-moved Q A law h Program open_room (tops (finished_fields (f and (list p y b ts and ends)))) (take the_value true) taken proper.1.0.1 (below-after (Stood Program open_room) (pending_statements p y b) (finished_trees ts) stood.1.0) (below-after Fine (pending_statements p y b) (finished_trees ts) fine.1.0) (below-after Fine (pending_statements q y' b') (finished_trees us) after.1.0) (resolved-after (n 1).role (n 1).names (pending_statements p y b) (finished_trees ts) resolved.1.0) (found 1)))
  in-program l n (in_later {f = f} (in_first {fs = ends} (in_list e e' h))) proper shape target top taken stood fine after resolved found = absurd (cc (e', top))
  in-program l n (in_later {f = f} (in_first {fs = ends} (in_target e h))) proper shape target top taken stood fine after resolved found = absurd (cc (e, target))
  in-program l n (in_later {f = f} (in_first {fs = ends} (acts_on_list {n = m} {s = s} {s' = s'} {p = p} {q = q} {x = x} {y = y} {a = a} {b = b} ts us h))) proper shape target top taken stood fine after resolved found = absurd (law.nodes m s s' (at_list p x a ts) (at_list q y b us) h)
  in-program l n (in_later {f = f} (in_first {f = g} {fs = ends} (in_child h))) proper shape target top taken stood fine after resolved found = absurd (program-second (finished_field f) (finished_field g) done shape tt)
  in-program l n (in_later {f = f} (in_first {f = g} {fs = ends} (in_children h))) proper shape target top taken stood fine after resolved found = absurd (program-second (finished_field f) (finished_field g) done shape tt)
  in-program l n (in_later {f = f} (in_first {f = g} {fs = ends} (in_body e y y' h))) proper shape target top taken stood fine after resolved found = absurd (program-second (finished_field f) (finished_field g) done shape tt)
  in-program l n (in_later {f = f} (in_first {f = g} {fs = ends} (acts_on_body t u h))) proper shape target top taken stood fine after resolved found = absurd (program-second (finished_field f) (finished_field g) done shape tt)
  in-program l n (in_later {f = f} (in_first {f = g} {fs = i and gs} h)) proper shape target top taken stood fine after resolved found = absurd (program-longer (finished_field f) (finished_field g) (finished_field i) (finished_fields gs) shape)
  in-program l n (in_later {f = f} (in_later {f = g} (in_first {f = i} {fs = gs} h))) proper shape target top taken stood fine after resolved found = absurd (program-longer (finished_field f) (finished_field g) (finished_field i) (finished_fields gs) shape)
  in-program l n (in_later {f = f} (in_later {f = g} (in_later {f = i} {fs = gs} h))) proper shape target top taken stood fine after resolved found = absurd (program-longer (finished_field f) (finished_field g) (finished_field i) (finished_fields gs) shape)

  kind-program : (t : Tree) → has_form s-Program t ≡ true → kind_of t ≡ Program
  kind-program (node k l fs) h = (form-placed (node k l fs) h).0

  -- what a step makes of a program
  pub program-moved : {s s' : Ledger} {x y : Open} → Step Q the_program s x s' y → IsProper x → has_form s-Program (finished x) ≡ true → is_without_functions (finished x) ≡ true → Fine (finished x) → Fine (finished y) → IsResolved (finished x) →
      ProgramWent law.hoisted MovedProgram (whole_in s) (finished x) (finished y)
  program-moved (acts {s = s} {s' = s'} t u h) proper form class fine after resolved =
      let a = law.acting the_program s s' t u h in
      let no : stays_put (kind_of t) ≡ false = law.acts_on a.new the_program (whole_in s) t u a.rule in
      absurd (let yes : kind_of t ≡ Program = kind-program t (subst (λ (x : Tree). has_form s-Program x ≡ true) (finished-opened t) form) in let e : true ≡ false = sym (ap stays_put yes) ∙ no in cc e)
  program-moved (inside {k = Program} {l = l} {fs = fs} {gs = gs} h) proper form class fine after resolved =
      in-program l (site_in the_program Program l fs) h proper (program-fields s-Program l (finished_fields fs) form) refl refl refl (formed-inside open_room s-Program Program l (finished_fields fs) form class refl)
      (fine-inside Program l (finished_fields fs) fine) (fine-inside Program l (finished_fields gs) after) resolved.2 (λ i. finds_top l (finished_fields fs) i fine resolved)
  program-moved (inside {k = k} {l = l} {fs = fs} h) proper form class fine after resolved = absurd (let no : false ≡ true = (node_form s-Program k l (finished_fields fs) form).sort in cc no)
