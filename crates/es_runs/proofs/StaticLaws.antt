-- Whatever steps of the core rules are taken from a core program that keeps the static rules, what is written keeps them.
use Rattle.std.proofs.Common.{◌≡◌, refl, sym, subst, ap, ◌∙◌, List, [], map}
use Rattle.std.specs.Prelude.{Bool, true, false, ◌&&◌}
use Rattle.es_tree.specs.Bare.{bare}
use Rattle.es_tree.specs.Core.{is_core_node, IsCoreProgram}
use Rattle.es_tree.specs.CoreStaticRules.{visits, KeepRules, core_breaks}
use Rattle.es_tree.specs.Scopes.{declared_of, declares}
use Rattle.es_tree.specs.StaticRules.{breaks}
use Rattle.es_tree.specs.Tree.{Tree, node, Fields, done, ◌then◌, Field, missing, one, many, statements, Trees, empty, ◌before◌}
use Rattle.es_tree.specs.Walks.{all_nodes, all_in_fields, all_in_field, all_in_trees}
use Rattle.es_tree.specs.Words.{Text}
use Rattle.es_tree.specs.declared.place.Place.TheVariants.{Other}
use Rattle.es_tree.proofs.CoreBreaks.{breaks-core}
use Rattle.es_tree.proofs.KeptRules.{keep-none, none-keep}
use Rattle.es_runs.specs.Open.{Open, OpenFields, OpenField, OpenTrees, opened, opened_fields, opened_field, opened_trees, closed, closed_fields, closed_field, closed_trees, written}
use Rattle.es_runs.specs.Open.Open.{open_node}
use Rattle.es_runs.specs.Open.OpenFields.{ends, ◌and◌}
use Rattle.es_runs.specs.Open.OpenField.{gap, child, children, list}
use Rattle.es_runs.specs.Open.OpenTrees.{nil, ◌next◌}
use Rattle.es_runs.specs.OpenRules.{CoreRule}
use Rattle.es_runs.specs.OpenSteps.{Whole, Reached, whole_in, whole_of}
use Rattle.es_runs.specs.StaticLaws.{written_out, written_out_fields, written_out_field, written_out_trees, LawStaticRules, LawReachedRules}
use Rattle.es_runs.specs.Standing.{is_program_kind, undeclaring}
use Rattle.es_runs.proofs.Declarations.{is_done}
use Rattle.es_runs.proofs.DeclaredNames.{core-bare}
use Rattle.es_runs.proofs.FormUndeclaring.{undeclaring-bare}
use Rattle.es_runs.proofs.Named.{and_left, and_right}
use Rattle.es_runs.proofs.OpenForm.{no_list, is_no_list, unlisted, childless, one_list, has_one_list, has_one_list-bare}
use Rattle.es_runs.proofs.OpenLaws.{nothing_opened, source_open}
use Rattle.es_runs.proofs.OpenPlaces.{own_pending, written_in}
use Rattle.es_runs.proofs.OpenRuns.{has_written}
use Rattle.es_runs.proofs.OpenTrees.{closed-opened}
use Rattle.es_runs.proofs.RowFacts.{Each}
use Rattle.es_runs.proofs.StaticBare.{bare_keeps, bare_breaks}
use Rattle.es_runs.proofs.StaticKeeps.{Agree, each_own, names_agree, both_keep, keeps_visits, visits_keep}
use Rattle.es_runs.proofs.StaticNames.{to_name, program_names}
use Rattle.es_runs.proofs.StaticPrograms.{IsStatic, all_static, plain_names, written_keeps, written_agree}
use Rattle.es_runs.proofs.StaticVisits.{IsPlaced, placed_breaks}
use Rattle.es_runs.proofs.Written.{plain}

-- WRITING ALL THAT IS PENDING

mutual
  -- where no statement list stands nothing is written
  written_unlisted : (o : Open) → all_nodes unlisted (closed o) ≡ true → written_out o ≡ closed o
  written_unlisted (open_node k l fs) h = ap (λ gs. node k l gs) (written_fields fs (and_left (no_list (closed_fields fs)) (all_in_fields unlisted (closed_fields fs)) h) (and_right (no_list (closed_fields fs)) (all_in_fields unlisted (closed_fields fs)) h))

  written_fields : (fs : OpenFields) → no_list (closed_fields fs) ≡ true → all_in_fields unlisted (closed_fields fs) ≡ true → written_out_fields fs ≡ closed_fields fs
  written_fields ends g h = refl
  written_fields (f and fs) g h =
      λ i. written_field f (and_left (is_no_list (closed_field f)) (no_list (closed_fields fs)) g) (and_left (all_in_field unlisted (closed_field f)) (all_in_fields unlisted (closed_fields fs)) h) i
      then written_fields fs (and_right (is_no_list (closed_field f)) (no_list (closed_fields fs)) g) (and_right (all_in_field unlisted (closed_field f)) (all_in_fields unlisted (closed_fields fs)) h) i

  written_field : (f : OpenField) → is_no_list (closed_field f) ≡ true → all_in_field unlisted (closed_field f) ≡ true → written_out_field f ≡ closed_field f
  written_field gap g h = refl
  written_field (child t) g h = ap (λ u. one u) (written_unlisted t h)
  written_field (children ts) g h = ap (λ us. many us) (written_trees ts h)
  written_field (list p ts) g h = absurd (cc g)

  written_trees : (ts : OpenTrees) → all_in_trees unlisted (closed_trees ts) ≡ true → written_out_trees ts ≡ closed_trees ts
  written_trees nil h = refl
  written_trees (t next ts) h = λ i. written_unlisted t (and_left (all_nodes unlisted (closed t)) (all_in_trees unlisted (closed_trees ts)) h) i before written_trees ts (and_right (all_nodes unlisted (closed t)) (all_in_trees unlisted (closed_trees ts)) h) i

written_childless : (ts : OpenTrees) → childless (closed_trees ts) ≡ true → written_out_trees ts ≡ closed_trees ts
written_childless nil h = refl
written_childless (open_node k l ends next ts) h = ap (λ us. node k l done before us) (written_childless ts h)
written_childless (open_node k l (f and fs) next ts) h = absurd (cc h)

written_end : (fs : OpenFields) → is_done (closed_fields fs) ≡ true → written_out_fields fs ≡ closed_fields fs
written_end ends h = refl
written_end (f and fs) h = absurd (cc h)

-- of a program what is pending for its own list is written
written_program : (o : Open) → has_one_list (closed o) ≡ true → written_out o ≡ written_in (own_pending o) (closed o)
written_program (open_node k l fs) h = at fs (and_right (is_program_kind k) (one_list (closed_fields fs)) h)
  where
    at : (gs : OpenFields) → one_list (closed_fields gs) ≡ true → written_out (open_node k l gs) ≡ written_in (own_pending (open_node k l gs)) (closed (open_node k l gs))
    at (children ds and (list p body and gs)) g =
        let directives = and_left (childless (closed_trees ds)) (all_in_trees unlisted (closed_trees body) && is_done (closed_fields gs)) g in
        let rest = and_right (childless (closed_trees ds)) (all_in_trees unlisted (closed_trees body) && is_done (closed_fields gs)) g in
        λ i. node k l (many (written_childless ds directives i) then (statements (written p (written_trees body (and_left (all_in_trees unlisted (closed_trees body)) (is_done (closed_fields gs)) rest) i)) then written_end gs (and_right (all_in_trees unlisted (closed_trees body)) (is_done (closed_fields gs)) rest) i))
    at (children ds and ends) g = absurd (cc (and_right (childless (closed_trees ds)) false g))
    at (children ds and (gap and gs)) g = absurd (cc (and_right (childless (closed_trees ds)) false g))
    at (children ds and (child t and gs)) g = absurd (cc (and_right (childless (closed_trees ds)) false g))
    at (children ds and (children ts and gs)) g = absurd (cc (and_right (childless (closed_trees ds)) false g))
    at (gap and gs) g = absurd (cc g)
    at (child t and gs) g = absurd (cc g)
    at (list p ts and gs) g = absurd (cc g)
    at ends g = absurd (cc g)

mutual
  -- with nothing pending nothing is written
  written_opened : (t : Tree) → written_out (opened t) ≡ t
  written_opened (node k l fs) = ap (λ gs. node k l gs) (opened_fields_written fs)

  opened_fields_written : (fs : Fields) → written_out_fields (opened_fields fs) ≡ fs
  opened_fields_written done = refl
  opened_fields_written (f then fs) = λ i. opened_field_written f i then opened_fields_written fs i

  opened_field_written : (f : Field) → written_out_field (opened_field f) ≡ f
  opened_field_written missing = refl
  opened_field_written (one t) = λ i. one (written_opened t i)
  opened_field_written (many ts) = λ i. many (opened_trees_written ts i)
  opened_field_written (statements ts) = λ i. statements (opened_trees_written ts i)

  opened_trees_written : (ts : Trees) → written_out_trees (opened_trees ts) ≡ ts
  opened_trees_written empty = refl
  opened_trees_written (t before ts) = λ i. written_opened t i before opened_trees_written ts i

-- THE LAWS

-- nothing is pending in the source
source_static : (p : Tree) → IsCoreProgram p → breaks p ≡ [] → IsStatic (whole_of p) (opened (bare p))
source_static p is kept =
    let program = source_open p is in
    let same : closed (opened (bare p)) ≡ bare p = closed-opened (bare p) in
    let rules = subst (λ t. KeepRules [] (visits Other t)) (sym same) (bare_keeps p (sym (breaks-core p is) ∙ kept)) in
    record {
      program = program;
      keeps = visits_keep Other (closed (opened (bare p))) (each_own [] (visits Other (closed (opened (bare p)))) rules);
      agree = subst (λ ns. Agree [] ns) (program_names (closed (opened (bare p))) program.known.shaped program.known.placed) (names_agree [] (visits Other (closed (opened (bare p)))) rules);
      apart = λ xs e. subst (λ zs. Each (λ x. declares (declared_of (closed (opened (bare p)))) x ≡ false) zs) (plain_names [] xs (sym (nothing_opened (bare p)) ∙ e)) tt;
    }

-- with what is pending written an open program keeps the rules
written_static : (w : Whole) (o : Open) → IsStatic w o → core_breaks (written_out o) ≡ []
written_static w o h =
    let xs = h.program.names in
    let tree : written_out o ≡ written_in (plain xs) (closed o) = written_program o h.program.one_list ∙ ap (λ p. written_in p (closed o)) h.program.pending in
    let found = has_written w xs (closed o) h.program.known h.program.one_list in
    let t = written_in (plain xs) (closed o) in
    let agree = subst (λ ds. Agree [] (map to_name ds)) (sym found.declares) (written_agree xs (declared_of (closed o)) (h.apart xs h.program.pending) h.agree) in
    let keeps = keeps_visits Other t (written_keeps xs (closed o) h.program.known.shaped h.keeps) in
    ap core_breaks tree ∙ none-keep [] (visits Other t) (both_keep [] (visits Other t) keeps (subst (λ ns. Agree [] ns) (sym (program_names t found.known.shaped found.known.placed)) agree))

-- with what is pending written, declarations stand where they belong
written_placed : (w : Whole) (o : Open) → IsStatic w o → IsPlaced (written_out o)
written_placed w o h =
    let xs = h.program.names in
    let tree : written_out o ≡ written_in (plain xs) (closed o) = written_program o h.program.one_list ∙ ap (λ p. written_in p (closed o)) h.program.pending in
    let found = has_written w xs (closed o) h.program.known h.program.one_list in
    subst (λ t. IsPlaced t) (sym tree) (record { core = found.known.core; placed = found.known.placed; one_list = found.one_list })

pub law_static_rules_proof : LawStaticRules
law_static_rules_proof no_all p s o is kept steps =
    let found = all_static no_all steps (source_static p is kept) in
    placed_breaks (written_out o) (written_placed (whole_in s) o found) ∙ written_static (whole_in s) o found

module _ (no_all : Bool) (p q : Tree) (names : List Text) (is : IsCoreProgram p) (kept : breaks p ≡ []) (reached : Reached (CoreRule no_all) p names q) where
  found : IsStatic reached.whole (opened (bare q))
  found = all_static no_all reached.steps (source_static p is kept)

  -- what is reached breaks no rule that a core program can break
  pub reached_breaks : core_breaks q ≡ []
  reached_breaks = bare_breaks q (keep-none [] (visits Other (bare q)) (ap core_breaks (sym (written_opened (bare q))) ∙ written_static reached.whole (opened (bare q)) found))

  reached_placed : IsPlaced q
  reached_placed =
      let same : closed (opened (bare q)) ≡ bare q = closed-opened (bare q) in
      record {
        core = sym (ap (λ t. all_nodes is_core_node t) same ∙ core-bare q) ∙ found.program.known.core;
        placed = sym (ap (λ t. all_nodes undeclaring t) same ∙ undeclaring-bare q) ∙ found.program.known.placed;
        one_list = sym (ap has_one_list same ∙ has_one_list-bare q) ∙ found.program.one_list;
      }

pub law_reached_rules_proof : LawReachedRules
law_reached_rules_proof no_all p q names is kept reached = placed_breaks q (reached_placed no_all p q names is kept reached) ∙ reached_breaks no_all p q names is kept reached
