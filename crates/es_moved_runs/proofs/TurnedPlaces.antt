-- Trees that are the same but for one statement or catch clause whose head is a scope of its own are the same but for that place, at whatever depth.
use Rattle.std.proofs.Common.{◌≡◌, ℕ, zero, suc, refl, List}
use Rattle.std.specs.Prelude.{Bool, true, false, not, ◌&&◌}
use Rattle.std.proofs.lemmas.Bool.{and_parts}
use Rattle.es_tree.specs.Scopes.{Declared}
use Rattle.es_tree.specs.Tree.{Tree, node, Label, Fields, done, ◌then◌, Field, missing, one, many, statements, Trees, empty, ◌before◌, kind_of}
use Rattle.es_tree.specs.Words.{Text}
use Rattle.es_tree.specs.Walks.{all_in_fields, all_nodes}
use Rattle.es_tree.specs.declared.ast_type.AstType.{AstType}
use Rattle.es_tree.specs.declared.ast_type.AstType.TheVariants.{Program}
use Rattle.es_runs.specs.Alike.{Level, is_bad, the_value}
use Rattle.es_statement_runs.specs.BareVars.{Beside, BesideField, BesideFields, BesideList, BesideTrees, names_around}
use Rattle.es_statement_runs.specs.BareVars.Beside.{at_place, in_node}
use Rattle.es_statement_runs.specs.BareVars.BesideField.{beside_many, beside_missing, beside_one, beside_statements}
use Rattle.es_statement_runs.specs.BareVars.BesideFields.{beside_done, beside_then}
use Rattle.es_statement_runs.specs.BareVars.BesideList.{both_have}
use Rattle.es_statement_runs.specs.BareVars.BesideTrees.{beside_before, beside_empty}
use Rattle.es_statement_runs.specs.Names.{names_of_all, own_names, var_names}
use Rattle.es_statement_runs.specs.Places.{Take, all_good, avoids, avoids_field, avoids_fields, avoids_trees, take, takes_of}
use Rattle.es_statement_runs.specs.Programs.{names_no_cell}
use Rattle.es_statement_runs.proofs.BareVars.{list_beside, self_beside}
use Rattle.es_statement_steps.proofs.Below.{Below, BelowField, BelowTrees, both_below, map_field, nodes_below}
use Rattle.es_statement_steps.proofs.Stands.{child_parts, is_inner, is_program, shaped, standing}
use Rattle.es_rest_runs.specs.Changing.{Changed, ChangedAmong, ChangedBy, ChangedIn}
use Rattle.es_rest_runs.specs.Changing.Changed.{below, here}
use Rattle.es_rest_runs.specs.Changing.ChangedAmong.{head_of, tail_of}
use Rattle.es_rest_runs.specs.Changing.ChangedBy.{many_of, one_of, statements_of}
use Rattle.es_rest_runs.specs.Changing.ChangedIn.{first_of, later_of}
use Rattle.es_rest_runs.proofs.GrownNames.{Apt, Part, none_by, parts_of}
use Rattle.es_rest_runs.proofs.GrownPrograms.{ProgramChanged}
use Rattle.es_moved_runs.proofs.TurnedNames.{Turned, apt_parts, label_same, own_names_same, own_use_same, turned_inner, turned_program}

-- what is known of a tree: where its nodes stand, and that no name of it is one of the machine's own cells
abbrev pub Sound : Tree → Type 0
Sound t = Apt t × (all_nodes names_no_cell t ≡ true)

module _ (A : Tree → Tree → Type 0) (turn : (a b : Tree) → A a b → Turned a b) (vars : (a b : Tree) → A a b → Apt a → var_names b ≡ var_names a) (bad : Level → Text → Bool) where
  -- where it is changed: the place avoids what is bad
  abbrev pub Placed : List Declared → Take → Tree → Tree → Type 0
  Placed D t a b = A a b × (Sound a × (avoids bad t a ≡ true))

  -- what stays
  trees_self : (ts : Trees) (D : List Declared) (t : Take) → avoids_trees bad t ts ≡ true → BesideTrees bad Placed D t ts ts
  trees_self empty D t h = beside_empty
  trees_self (a before ts) D t h = let p = and_parts (avoids bad t a) (avoids_trees bad t ts) h in beside_before (self_beside bad Placed a D t p.0) (trees_self ts D t p.1)

  field_self : (f : Field) (D : List Declared) (t : Take) → avoids_field bad t f ≡ true → BesideField bad Placed D t f f
  field_self missing D t h = beside_missing
  field_self (one a) D t h = beside_one (self_beside bad Placed a D t h)
  field_self (many ts) D t h = beside_many (trees_self ts D t h)
  field_self (statements ts) D t h = beside_statements (trees_self ts D t h)

  fields_self : (fs : Fields) (d : ℕ → List Declared) (c : ℕ → Take) → avoids_fields bad c fs ≡ true → BesideFields bad Placed d c fs fs
  fields_self done d c h = beside_done
  fields_self (f then fs) d c h = let p = and_parts (avoids_field bad (c zero) f) (avoids_fields bad (λ i. c (suc i)) fs) h in beside_then (field_self f (d zero) (c zero) p.0) (fields_self fs (λ i. d (suc i)) (λ i. c (suc i)) p.1)

  -- what a node that isn't bad avoids
  record Clear (k : AstType) (l : Label) (fs : Fields) (t : Take) : Type 0 where
    pub fine : is_bad bad t.need.level k l.texts ≡ false
    pub good : all_good bad (names_of_all (own_names k fs)) ≡ true
    pub fields : avoids_fields bad (takes_of t k l.texts l.flags) fs ≡ true

  not_so : (b : Bool) → not b ≡ true → b ≡ false
  not_so true e = absurd (cc e)
  not_so false e = refl

  clear : (k : AstType) (l : Label) (fs : Fields) (t : Take) → avoids bad t (node k l fs) ≡ true → Clear k l fs t
  clear k l fs t h =
      let p = and_parts (not (is_bad bad t.need.level k l.texts)) (all_good bad (names_of_all (own_names k fs)) && avoids_fields bad (takes_of t k l.texts l.flags) fs) h in
      let q = and_parts (all_good bad (names_of_all (own_names k fs))) (avoids_fields bad (takes_of t k l.texts l.flags) fs) p.1 in
      record { fine = not_so (is_bad bad t.need.level k l.texts) p.0; good = q.0; fields = q.1 }

  sound_parts : (k : AstType) (l : Label) (fs : Fields) → Sound (node k l fs) → Below (λ i. Sound) fs
  sound_parts k l fs h =
      both_below (λ i. Apt) (λ i t. all_nodes names_no_cell t ≡ true) fs (apt_parts k l fs h.0) (nodes_below names_no_cell fs (and_parts (names_no_cell k l fs) (all_in_fields names_no_cell fs) h.1).1)

  -- THE WALK
  mutual
    placed : {a b : Tree} → Changed A a b → (D : List Declared) (t : Take) → Sound a → avoids bad t a ≡ true → Beside bad Placed D t a b
    placed (here h) D t sound av = at_place (h, (sound, av))
    placed (below {k = k} {l = l} {fs = fs} {gs = gs} h) D t sound av =
        let c = clear k l fs t av in
        in_node c.fine refl refl (own_names_same A turn vars k l h sound.0) (own_use_same A turn vars k l h sound.0) (label_same A turn vars k h) c.good (placed_in h (names_around k (own_names k fs) D) (takes_of t k l.texts l.flags) (sound_parts k l fs sound) c.fields)

    placed_in : {fs gs : Fields} → ChangedIn A fs gs → (d : ℕ → List Declared) (c : ℕ → Take) → Below (λ i. Sound) fs → avoids_fields bad c fs ≡ true → BesideFields bad Placed d c fs gs
    placed_in (first_of {f = f} {fs = fs} h) d c p av =
        let q = and_parts (avoids_field bad (c zero) f) (avoids_fields bad (λ i. c (suc i)) fs) av in
        beside_then (placed_by h (d zero) (c zero) p.0 q.0) (fields_self fs (λ i. d (suc i)) (λ i. c (suc i)) q.1)
    placed_in (later_of {f = f} {fs = fs} h) d c p av =
        let q = and_parts (avoids_field bad (c zero) f) (avoids_fields bad (λ i. c (suc i)) fs) av in
        beside_then (field_self f (d zero) (c zero) q.0) (placed_in h (λ i. d (suc i)) (λ i. c (suc i)) p.1 q.1)

    placed_by : {f g : Field} → ChangedBy A f g → (D : List Declared) (t : Take) → BelowField Sound f → avoids_field bad t f ≡ true → BesideField bad Placed D t f g
    placed_by (one_of h) D t p av = beside_one (placed h D t p av)
    placed_by (many_of h) D t p av = beside_many (placed_among h D t p av)
    placed_by (statements_of h) D t p av = beside_statements (placed_among h D t p av)

    placed_among : {ts us : Trees} → ChangedAmong A ts us → (D : List Declared) (t : Take) → BelowTrees Sound ts → avoids_trees bad t ts ≡ true → BesideTrees bad Placed D t ts us
    placed_among (head_of {a = a} {ts = ts} h) D t p av =
        let q = and_parts (avoids bad t a) (avoids_trees bad t ts) av in
        beside_before (placed h D t p.0 q.0) (trees_self ts D t q.1)
    placed_among (tail_of {a = a} {ts = ts} h) D t p av =
        let q = and_parts (avoids bad t a) (avoids_trees bad t ts) av in
        beside_before (self_beside bad Placed a D t q.0) (placed_among h D t p.1 q.1)

  -- in a list
  pub placed_list : {ts us : Trees} → ChangedAmong A ts us → (D : List Declared) (more : Bool) → BelowTrees Sound ts → avoids_trees bad (take the_value more) ts ≡ true → BesideList bad Placed D more ts us
  placed_list (head_of {a = a} {ts = ts} h) D more p av =
      let q = and_parts (avoids bad (take the_value more) a) (avoids_trees bad (take the_value more) ts) av in
      both_have (placed h D (take the_value more) p.0 q.0) (list_beside bad Placed D more ts q.1)
  placed_list (tail_of {a = a} {ts = ts} h) D more p av =
      let q = and_parts (avoids bad (take the_value more) a) (avoids_trees bad (take the_value more) ts) av in
      both_have (self_beside bad Placed a D (take the_value more) q.0) (placed_list h D more p.1 q.1)

-- THE PROGRAM
module _ (A : Tree → Tree → Type 0) (turn : (a b : Tree) → A a b → Turned a b) where
  program_long : (ds : Trees) (g h : Field) (fs : Fields) → shaped Program (many ds then (g then (h then fs))) ≡ true → ⊥
  program_long ds missing h fs e = absurd (cc e)
  program_long ds (one t) h fs e = absurd (cc e)
  program_long ds (many ts) h fs e = absurd (cc e)
  program_long ds (statements ts) h fs e = absurd (cc e)

  in_program : {fs gs : Fields} (l : Label) → ChangedIn A fs gs → shaped Program fs ≡ true → Below (λ i t. Part Program i t) fs → ProgramChanged A (node Program l fs) (node Program l gs)
  in_program l (first_of {f = f} h) s p = absurd (none_by A (λ a b g. turned_inner (turn a b g)) h (map_field (Part Program 0) (λ t. Apt t × (is_inner (kind_of t) ≡ true)) (λ t q. (q.0, (child_parts Program 0 t q.1.0).part)) f p.0))
  in_program l (later_of {f = missing} h) s p = absurd (cc s)
  in_program l (later_of {f = one t} h) s p = absurd (cc s)
  in_program l (later_of {f = statements ts} h) s p = absurd (cc s)
  in_program l (later_of {f = many ds} (first_of (one_of h))) s p = absurd (cc s)
  in_program l (later_of {f = many ds} (first_of (many_of h))) s p = absurd (cc s)
  in_program l (later_of {f = many ds} (first_of {fs = done} (statements_of {ts = ts} {us = us} h))) s p = record { label = l; directives = ds; body = ts; after = us; first = refl; second = refl; changed = h; parts = p.1.0 }
  in_program l (later_of {f = many ds} (first_of {fs = g then fs} (statements_of h))) s p = absurd (cc s)
  in_program l (later_of {f = many ds} (later_of {f = g} (first_of {f = h} {fs = fs} x))) s p = absurd (program_long ds g h fs s)
  in_program l (later_of {f = many ds} (later_of {f = g} (later_of {f = h} {fs = fs} x))) s p = absurd (program_long ds g h fs s)

  pub program_turned : {p q : Tree} → Changed A p q → Apt p → is_program (kind_of p) ≡ true → ProgramChanged A p q
  program_turned (here {a = a} {b = b} h) apt e = absurd (turned_program (turn a b h) e)
  program_turned (below {k = Program} {l = l} {fs = fs} h) apt e = in_program l h (standing Program l fs apt.0).shape (parts_of Program l fs apt)
  program_turned (below h) apt e = absurd (cc e)
