-- What every step of the core rules keeps of an open core program: its form, its run, and how its names are bound.
use Rattle.std.proofs.Common.{◌≡◌, refl, sym, ap, subst, ◌∙◌, List, [], ◌∷◌, ◌++◌}
use Rattle.std.proofs.lemmas.Bool.{and_from}
use Rattle.std.proofs.lemmas.List.{map-append}
use Rattle.std.specs.Prelude.{Bool, true, false, ◌&&◌, ◌||◌, bytes_eq, not}
use Rattle.es_tree.specs.Words.{Text}
use Rattle.es_tree.specs.Core.{is_core_node}
use Rattle.es_tree.specs.Fresh.{is_among}
use Rattle.es_tree.specs.Names.{names_if, names_in_trees}
use Rattle.es_tree.specs.Scopes.{Declared, declared_of, declared_in_body, is_written, writes}
use Rattle.es_tree.specs.Tree.{Tree, node, Label, done, ◌then◌, many, statements, Trees}
use Rattle.es_tree.specs.Walks.{all_in_trees, any_in_trees}
use Rattle.es_tree.specs.declared.ast_type.AstType.TheVariants.{Program, VariableDeclaration}
use Rattle.es_runs.specs.Alike.{all_of_it}
use Rattle.es_runs.specs.Machine.{Value, Move}
use Rattle.es_runs.specs.Machine.State.{state}
use Rattle.es_runs.specs.Open.{nothing_pending, Open, closed, declarator_node, with_vars}
use Rattle.es_runs.specs.OpenRules.{with_names, CoreRule}
use Rattle.es_runs.specs.OpenSteps.{Whole, Ledger, whole_in, Step, Steps}
use Rattle.es_runs.specs.OpenSteps.Ledger.{ledger}
use Rattle.es_runs.specs.OpenSteps.Steps.{stays, goes}
use Rattle.es_runs.specs.Rules.{OnePlace, pending, strays, strays_nodes}
use Rattle.es_runs.specs.Runs.{cells_of, is_declared, outcome, run_where, SameRun, world_of}
use Rattle.es_runs.specs.Runs.Outcome.{called_uncallable}
use Rattle.es_runs.specs.Standing.{trees_stand, undeclaring}
use Rattle.es_runs.proofs.CoreRules.{same_run_trans, still_callable}
use Rattle.es_runs.proofs.Declarations.{program_parts, declarators, body_of}
use Rattle.es_runs.proofs.FreshNames.{used_after}
use Rattle.es_runs.proofs.Kept.{among_both}
use Rattle.es_runs.proofs.KnownPrograms.{Known, declared-all_pending, one_step, same_binding, shaped_step, still_known}
use Rattle.es_runs.proofs.Named.{and_left, and_right, or_both, or_first, or_second, among_first, among_second}
use Rattle.es_runs.proofs.OpenForm.{unlisted, childless, has_one_list}
use Rattle.es_runs.proofs.OpenPlaces.{RuleOf, own_pending, written_in, ProgramStep, program_step}
use Rattle.es_runs.proofs.OpenPlaces.ProgramStep.{replaced, wrote}
use Rattle.es_runs.proofs.RowTidy.{step_tidy}
use Rattle.es_runs.proofs.Temporary.{bytes_eq-flip}
use Rattle.es_runs.proofs.Written.{all_pending, declarator_nodes, one_of, pending_vars, plain, scope_of-all_pending, scope_of-vars, vars, written_runs}

-- OPEN CORE PROGRAMS

-- the names that the run of an open program has: these are pending
abbrev pub with_pending : List Text → Open → List Declared
with_pending xs o = all_pending xs (declared_of (closed o))

-- An open core program: what is pending for its own list are declarators of names, and it is known.
pub record IsOpenProgram (w : Whole) (o : Open) : Type 0 where
  pub names : List Text
  pub pending : own_pending o ≡ plain names
  pub one_list : has_one_list (closed o) ≡ true
  pub known : Known w (with_pending names o) (closed o)

-- From one open program to another: it stays one, names in use keep their bindings, and where no optional mark stands outside
-- a chain, none does afterwards, and both run alike.
pub record Goes (no_all : Bool) (w : Whole) (o : Open) (xs : List Text) (w' : Whole) (u : Open) : Type 0 where
  pub after : IsOpenProgram w' u
  pub in_use : (y : Text) → w.in_use y ≡ true → w'.in_use y ≡ true
  pub bound : (y : Text) → w.in_use y ≡ true → is_declared (with_pending after.names u) y ≡ is_declared (with_pending xs o) y
  pub tidy : strays false (closed o) ≡ false → strays false (closed u) ≡ false
  pub same : strays false (closed o) ≡ false → (counts : Text → Bool) → ((y : Text) → counts y ≡ true → is_declared (with_pending xs o) y ≡ true) → (this : Value) (moves : List Move) → (outcome (run_where (not no_all) (with_pending xs o) (closed o) this moves) ≡ called_uncallable → ⊥) →
      SameRun counts (run_where (not no_all) (with_pending xs o) (closed o) this moves) (run_where (not no_all) (with_pending after.names u) (closed u) this moves)

used_where_bound : (in_use bound : Text → Bool) → ((y : Text) → in_use y ≡ false → bound y ≡ false) → (y : Text) → bound y ≡ true → in_use y ≡ true
used_where_bound in_use bound h y e = at (in_use y) refl
  where
    at : (b : Bool) → in_use y ≡ b → b ≡ true
    at true d = refl
    at false d = absurd (cc (h y d, e))

-- A STEP OF A ROW

all_pending-append : (ys xs : List Text) (ds : List Declared) → all_pending (ys ++ xs) ds ≡ all_pending xs (all_pending ys ds)
all_pending-append [] xs ds = refl
all_pending-append (y ∷ ys) xs ds = all_pending-append ys xs (pending y ds)

module _ (no_all : Bool) (w : Whole) (o u : Open) (h : IsOpenProgram w o) where
  after_row : (ys : List Text) → OnePlace (RuleOf no_all w ys) all_of_it (closed o) (closed u) → has_one_list (closed u) ≡ true → own_pending u ≡ with_vars ys (own_pending o) → Goes no_all w o h.names (with_names ys w) u
  after_row ys r lists pending =
      let ds : List Declared = with_pending h.names o in
      let shape = shaped_step no_all w ys r h.known.shaped in
      let now : with_pending (h.names ++ ys) u ≡ all_pending ys ds = ap (λ es. all_pending (h.names ++ ys) es) shape.1 ∙ all_pending-append h.names ys (declared_of (closed o)) in
      let known : Known (with_names ys w) (with_pending (h.names ++ ys) u) (closed u) = rw now (still_known no_all w ys ds (closed o) (closed u) h.known r) in
      record {
        after = record {
          names = h.names ++ ys;
          pending = pending ∙ ap (λ p. with_vars ys p) h.pending ∙ ap (λ ds. record { vars = ds; lets = [] }) (sym (map-append declarator_node h.names ys));
          one_list = lists;
          known = known;
        };
        in_use = used_after ys w.in_use;
        bound = λ y e. rw now (same_binding no_all w ys ds r y e);
        tidy = step_tidy no_all w ys r false;
        same = λ tidy counts ok this moves callable. rw now (one_step no_all w ys ds (closed o) (closed u) h.known r this counts ok moves tidy callable);
      }

-- WRITING

declarators_made : (xs : List Text) → declarators (declarator_nodes xs) ≡ true
declarators_made [] = refl
declarators_made (x ∷ xs) = declarators_made xs

core_made : (xs : List Text) → all_in_trees is_core_node (declarator_nodes xs) ≡ true
core_made [] = refl
core_made (x ∷ xs) = core_made xs

unlisted_made : (xs : List Text) → all_in_trees unlisted (declarator_nodes xs) ≡ true
unlisted_made [] = refl
unlisted_made (x ∷ xs) = unlisted_made xs

stand_made : (xs : List Text) → trees_stand VariableDeclaration (declarator_nodes xs) ≡ true
stand_made [] = refl
stand_made (x ∷ xs) = stand_made xs

placed_made : (xs : List Text) → all_in_trees undeclaring (declarator_nodes xs) ≡ true
placed_made [] = refl
placed_made (x ∷ xs) = placed_made xs

unwritten_made : (xs : List Text) (y : Text) → any_in_trees (writes y) (declarator_nodes xs) ≡ false
unwritten_made [] y = refl
unwritten_made (x ∷ xs) y = unwritten_made xs y

tidy_made : (xs : List Text) → strays_nodes false (declarator_nodes xs) ≡ false
tidy_made [] = refl
tidy_made (x ∷ xs) = tidy_made xs

names_made : (xs : List Text) (y : Text) → one_of xs y ≡ false → is_among (names_in_trees (declarator_nodes xs)) y ≡ false
names_made [] y e = refl
names_made (x ∷ xs) y e = or_both (bytes_eq x y) (is_among (names_in_trees (declarator_nodes xs)) y) (bytes_eq-flip x y ∙ or_first (bytes_eq y x) (one_of xs y) e) (names_made xs y (or_second (bytes_eq y x) (one_of xs y) e))

same_bound : (xs : List Text) (ds : List Declared) (y : Text) → is_declared (vars xs ++ ds) y ≡ is_declared (all_pending xs ds) y
same_bound xs ds y = rw (scope_of-vars xs ds y, scope_of-all_pending xs ds y) refl

-- with its declarators written the program is known as before, and runs as before
pub record HasWritten (w : Whole) (xs : List Text) (t : Tree) : Type 0 where
  pub known : Known w (declared_of (written_in (plain xs) t)) (written_in (plain xs) t)
  pub one_list : has_one_list (written_in (plain xs) t) ≡ true
  pub declares : declared_of (written_in (plain xs) t) ≡ vars xs ++ declared_of t
  pub runs : (loose : Bool) (this : Value) (moves : List Move) → run_where loose (declared_of (written_in (plain xs) t)) (written_in (plain xs) t) this moves ≡ run_where loose (all_pending xs (declared_of t)) t this moves
  pub tidy : strays false t ≡ false → strays false (written_in (plain xs) t) ≡ false

module _ (w : Whole) (l : Label) (ds body : Trees) where
  abbrev whole : Trees → Tree
  whole ts = node Program l (many ds then (statements ts then done))

  names_before : (y : Text) → is_among (names_if true (whole body)) y ≡ false → (is_among (names_in_trees ds) y ≡ false) × (is_among (names_in_trees body) y ≡ false)
  names_before y h = (among_first (names_in_trees ds) (names_in_trees body ++ []) y h, among_first (names_in_trees body) [] y (among_second (names_in_trees ds) (names_in_trees body ++ []) y h))

  written_before : (y : Text) → is_written y (whole body) ≡ false → (any_in_trees (writes y) ds ≡ false) × (any_in_trees (writes y) body ≡ false)
  written_before y h = (or_first (any_in_trees (writes y) ds) (any_in_trees (writes y) body || false) h, or_first (any_in_trees (writes y) body) false (or_second (any_in_trees (writes y) ds) (any_in_trees (writes y) body || false) h))

  whole_written : (xs : List Text) → Known w (all_pending xs (declared_in_body body)) (whole body) → has_one_list (whole body) ≡ true → HasWritten w xs (whole body)
  whole_written [] h lists = record { known = h; one_list = lists; declares = refl; runs = λ loose this moves. refl; tidy = λ k. k }
  whole_written (x ∷ xs) h lists =
      let core : (all_in_trees is_core_node ds && (all_in_trees is_core_node body && true)) ≡ true = h.core in
      let shaped : (body_of body && true) ≡ true = h.shaped in
      let lists : (childless ds && (all_in_trees unlisted body && true)) ≡ true = lists in
      let placed : (((trees_stand Program ds && (trees_stand Program body && true)) && true) && (all_in_trees undeclaring ds && (all_in_trees undeclaring body && true))) ≡ true = h.placed in
      let own : ((trees_stand Program ds && (trees_stand Program body && true)) && true) ≡ true = and_left ((trees_stand Program ds && (trees_stand Program body && true)) && true) (all_in_trees undeclaring ds && (all_in_trees undeclaring body && true)) placed in
      let below : (all_in_trees undeclaring ds && (all_in_trees undeclaring body && true)) ≡ true = and_right ((trees_stand Program ds && (trees_stand Program body && true)) && true) (all_in_trees undeclaring ds && (all_in_trees undeclaring body && true)) placed in
      record {
        known = record {
          core = and_from (all_in_trees is_core_node ds) ((all_in_trees is_core_node (declarator_nodes (x ∷ xs)) && true && all_in_trees is_core_node body) && true) (and_left (all_in_trees is_core_node ds) (all_in_trees is_core_node body && true) core) (rw (core_made xs) (and_right (all_in_trees is_core_node ds) (all_in_trees is_core_node body && true) core));
          shaped = rw (declarators_made xs) shaped;
          placed = and_from ((trees_stand Program ds && (trees_stand Program body && true)) && true) (all_in_trees undeclaring ds && ((((trees_stand VariableDeclaration (declarator_nodes xs) && true) && true) && (all_in_trees undeclaring (declarator_nodes xs) && true) && all_in_trees undeclaring body) && true)) own
              (and_from (all_in_trees undeclaring ds) ((((trees_stand VariableDeclaration (declarator_nodes xs) && true) && true) && (all_in_trees undeclaring (declarator_nodes xs) && true) && all_in_trees undeclaring body) && true) (and_left (all_in_trees undeclaring ds) (all_in_trees undeclaring body && true) below) (rw (stand_made xs, placed_made xs) (and_right (all_in_trees undeclaring ds) (all_in_trees undeclaring body && true) below)));
          names = λ y e math.
              let none : one_of (x ∷ xs) y ≡ false = or_first (one_of (x ∷ xs) y) (is_declared (declared_in_body body) y) (sym (declared-all_pending (x ∷ xs) (declared_in_body body) y) ∙ h.declared y e) in
              let before = names_before y (h.names y e math) in
              among_both (names_in_trees ds) (((names_in_trees (declarator_nodes (x ∷ xs)) ++ []) ++ names_in_trees body) ++ []) y before.0
              (among_both ((names_in_trees (declarator_nodes (x ∷ xs)) ++ []) ++ names_in_trees body) [] y
              (among_both (names_in_trees (declarator_nodes (x ∷ xs)) ++ []) (names_in_trees body) y
              (among_both (names_in_trees (declarator_nodes (x ∷ xs))) [] y (names_made (x ∷ xs) y none) refl) before.1) refl);
          declared = λ y e. same_bound (x ∷ xs) (declared_in_body body) y ∙ h.declared y e;
          bound = λ y. same_bound (x ∷ xs) (declared_in_body body) y ∙ h.bound y;
          steady = h.steady;
          unwritten = λ y e.
              let before = written_before y (h.unwritten y e) in
              or_both (any_in_trees (writes y) ds) (((any_in_trees (writes y) (declarator_nodes xs) || false) || any_in_trees (writes y) body) || false) before.0 (rw (unwritten_made xs y, before.1) refl);
        };
        one_list = and_from (childless ds) ((all_in_trees unlisted (declarator_nodes (x ∷ xs)) && true && all_in_trees unlisted body) && true) (and_left (childless ds) (all_in_trees unlisted body && true) lists) (rw (unlisted_made xs) (and_right (childless ds) (all_in_trees unlisted body && true) lists));
        declares = refl;
        runs = λ loose this moves.
            let es = vars (x ∷ xs) ++ declared_in_body body in
            written_runs (world_of loose this es) (x ∷ xs) l ds body (state (cells_of es) moves [])
            ∙ pending_vars loose (x ∷ xs) (declared_in_body body) (whole body) this moves;
        tidy = λ k.
            let own = or_second (strays_nodes false ds) (strays_nodes false body || false) k in
            or_both (strays_nodes false ds) (((strays_nodes false (declarator_nodes xs) || false) || strays_nodes false body) || false) (or_first (strays_nodes false ds) (strays_nodes false body || false) k) (rw (tidy_made xs) own);
      }

pub has_written : (w : Whole) (xs : List Text) (t : Tree) → Known w (all_pending xs (declared_of t)) t → has_one_list t ≡ true → HasWritten w xs t
has_written w xs t h lists =
    let parts = program_parts t h.shaped in
    let P : Tree → Type 0 = λ v. Known w (all_pending xs (declared_of v)) v → has_one_list v ≡ true → HasWritten w xs v in
    subst P (sym parts.whole) (whole_written w parts.label parts.directives parts.body xs) h lists

module _ (no_all : Bool) (w : Whole) (o u : Open) (h : IsOpenProgram w o) where
  after_writing : closed u ≡ written_in (own_pending o) (closed o) → own_pending u ≡ nothing_pending → Goes no_all w o h.names w u
  after_writing e pending =
      let tree : closed u ≡ written_in (plain h.names) (closed o) = e ∙ ap (λ p. written_in p (closed o)) h.pending in
      let found = has_written w h.names (closed o) h.known h.one_list in
      let known : Known w (with_pending [] u) (closed u) = subst (λ t. Known w (declared_of t) t) (sym tree) found.known in
      let names : declared_of (closed u) ≡ vars h.names ++ declared_of (closed o) = ap declared_of tree ∙ found.declares in
      let bound : (y : Text) → is_declared (with_pending [] u) y ≡ is_declared (with_pending h.names o) y = λ y. ap (λ ds. is_declared ds y) names ∙ same_bound h.names (declared_of (closed o)) y in
      let runs : (this : Value) (moves : List Move) → run_where (not no_all) (declared_of (closed u)) (closed u) this moves ≡ run_where (not no_all) (with_pending h.names o) (closed o) this moves = λ this moves. ap (λ t. run_where (not no_all) (declared_of t) t this moves) tree ∙ found.runs (not no_all) this moves in
      record {
        after = record { names = []; pending = pending; one_list = subst (λ t. has_one_list t ≡ true) (sym tree) found.one_list; known = known };
        in_use = λ y d. d;
        bound = λ y d. bound y;
        tidy = λ k. rw tree (found.tidy k);
        same = λ tidy counts ok this moves callable. rw (runs this moves) (record { outcomes = refl; questions = refl; final_cells = λ x d. refl });
      }

-- STEPS

pub one_goes : (no_all : Bool) (s s' : Ledger) (o u : Open) → Step (CoreRule no_all) all_of_it s o s' u → (h : IsOpenProgram (whole_in s) o) → Goes no_all (whole_in s) o h.names (whole_in s') u
one_goes no_all (ledger w p) s' o u r h = at (program_step no_all w p r h.one_list)
  where
    at : ProgramStep no_all w o s' u → Goes no_all w o h.names (whole_in s') u
    at (replaced ys k lists e pending) = subst (λ v. Goes no_all w o h.names v u) (sym e) (after_row no_all w o u h ys k lists pending)
    at (wrote tree e pending) = subst (λ v. Goes no_all w o h.names v u) (sym e) (after_writing no_all w o u h tree pending)

pub all_go : (no_all : Bool) {s s' : Ledger} {o u : Open} → Steps (Step (CoreRule no_all) all_of_it) s o s' u → (h : IsOpenProgram (whole_in s) o) → Goes no_all (whole_in s) o h.names (whole_in s') u
all_go no_all stays h = record { after = h; in_use = λ y e. e; bound = λ y e. refl; tidy = λ k. k; same = λ tidy counts ok this moves callable. record { outcomes = refl; questions = refl; final_cells = λ x e. refl } }
all_go no_all (goes {s = s} {s' = s'} {t = t} {u = u} r rest) h =
    let one = one_goes no_all s s' t u r h in
    let more = all_go no_all rest one.after in
    let used : (y : Text) → is_declared (with_pending h.names t) y ≡ true → (whole_in s).in_use y ≡ true = used_where_bound (whole_in s).in_use (is_declared (with_pending h.names t)) h.known.declared in
    record {
      after = more.after;
      in_use = λ y e. more.in_use y (one.in_use y e);
      bound = λ y e. more.bound y (one.in_use y e) ∙ one.bound y e;
      tidy = λ k. more.tidy (one.tidy k);
      same = λ tidy counts ok this moves callable.
          let first = one.same tidy counts ok this moves callable in
          same_run_trans counts _ _ _ first (more.same (one.tidy tidy) counts (λ y e. one.bound y (used y (ok y e)) ∙ ok y e) this moves (still_callable counts _ _ first callable));
    }
