-- From the one visit of a run to what the source becomes.
use Rattle.std.proofs.Common.{Some, ◌≡◌, ◌+◌, ◌*◌, ◌≤◌, ◌<◌, ◌^◌, ℕ, zero, suc, length, refl, sym, ap, ◌∙◌, subst, List, [], ◌∷◌, Option, None, inl, inr, arith}
use Rattle.std.specs.Prelude.{Bool, true, false, ◌&&◌, ◌||◌, is_some}
use Rattle.es_tree.specs.Bare.{bare}
use Rattle.es_tree.specs.Constructs.{is_arrow, is_chain, is_nullish_coalescing, is_object_spread, is_optional_catch, is_using}
use Rattle.es_row_laws.proofs.Lawful.{object-spread-under, rest-assignment-under}
use Rattle.es_row_laws.specs.Laws.{is_lowered_assignment, is_lowered_power, is_lowered_rest}
use Rattle.es_valid_steps.specs.Laws.{with_further_rules}
use Rattle.es_valid_steps.specs.PlaceRules.{place_breaks}
use Rattle.es_valid_steps.proofs.Visits.{law_among_proof, law_places_proof}
use Rattle.es_tree.specs.HasForm.{has_form}
use Rattle.es_tree.specs.Fresh.{is_among}
use Rattle.es_tree.specs.Names.{names_of}
use Rattle.es_tree.specs.StaticRules.{breaks}
use Rattle.es_tree.specs.Tree.{Tree, node, Label, Fields, done, ◌then◌, many, statements, kind_of, label_of, tree_size, trees}
use Rattle.es_tree.specs.Walks.{any_in_trees, any_node}
use Rattle.es_tree.specs.Words.{Text}
use Rattle.es_tree.specs.declared.ast_type.AstType.{AstType}
use Rattle.es_tree.specs.declared.ast_type.AstType.TheVariants.{Program as k-Program}
use Rattle.es_tree.specs.declared.options.EnvOptions.{EnvOptions}
use Rattle.es_tree.specs.declared.table.Sort.TheVariants.{Program as s-Program}
use Rattle.es_tree.proofs.BareForm.{has_form-bare, tree_size-bare}
use Rattle.es_scope.specs.Contexts.{around_of, made_of, table_of, uses_of}
use Rattle.es_scope.specs.declared.scoping.Scoping.{Scoping}
use Rattle.es_semantic.specs.TableOf.{IsTableOf}
use Rattle.es_scope.specs.declared.context.TraverseCtx.{TraverseCtx}
use Rattle.es_semantic.specs.ReferencesOf.{marked_program}
use Rattle.es_semantic.specs.SymbolsOf.{symbol_in, symbols_of}
use Rattle.es_semantic.proofs.MarkedProgram.{bare-marked-program}
use Rattle.es_statements.specs.ProgramPlain.{plain_program}
use Rattle.es_statements.specs.declared.program.Program.{Program}
use Rattle.es_resolution.specs.Laws.{source}
use Rattle.es_resolution.proofs.Forms.{form-placed}
use Rattle.es_resolution.specs.Seen.{seen, seen_among}
use Rattle.es_runs.specs.Weights.{weight}
use Rattle.es_runs.proofs.Weights.{size-weight}
use Rattle.es_steps.specs.Arrows.{ArrowRule}
use Rattle.es_steps.specs.CoreBridge.{Reached, first_whole, is_written_name, names_among}
use Rattle.es_steps.specs.CoreRules.{where_on}
use Rattle.es_steps.specs.Laws.{nothing_beside}
use Rattle.es_steps.specs.Rules.{either_rule}
use Rattle.es_steps.specs.Open.{Pending, nothing_pending, no_additions, opened}
use Rattle.es_steps.specs.Steps.{Ledger, ledger, Site, Spot, Step, Steps, Whole, the_program}
use Rattle.es_runs.proofs.Named.{or_first}
use Rattle.es_steps.proofs.BridgeInclusion.{all_under}
use Rattle.es_changes.specs.Changes.{HasRoom, Level, heft, lists_size, open_program}
use Rattle.es_changes.specs.Conditions.{holds_after}
use Rattle.es_changes.specs.Fits.{Fits}
use Rattle.es_changes.specs.Moments.{Moment, below, top, whole_at}
use Rattle.es_changes.proofs.StepRows.{steps-trans}
use Rattle.es_conditions.specs.CoreConditions.{core_conditions}
use Rattle.es_traverse.specs.ContextMoments.{bound_names}
use Rattle.es_traverse.specs.Laws.{KeptTree, KeptVisited, whole_rule}
use Rattle.es_traverse.specs.Listed.{any_listed}
use Rattle.es_traverse.specs.Loads.{load}
use Rattle.es_traverse.specs.Visits.{VisitedProgram}
use Rattle.es_traverse.proofs.LoadParts.{load-size}
use Rattle.es_visit.specs.declared.hook.Hook.{Hook}
use Rattle.es_visit.specs.declared.hook.Hook.TheVariants.{CatchClause, Expression}
use Rattle.es_arrow_steps.specs.ArrowWalks.{ArrowWalkRule}
use Rattle.es_arrow_steps.specs.ThisFits.{each_this_fits}
use Rattle.es_arrow_steps.proofs.Converted.{HasArrows}
use Rattle.es_arrow_steps.proofs.FirstUses.{law_first_uses_proof}
use Rattle.es_arrow_steps.proofs.Walks.{walks-are-steps}
use Rattle.es_valid_arrows.specs.ArrowPlaces.{fits_arrows}
use Rattle.es_valid_arrows.proofs.FitBare.{law_bare_fits_proof}
use Rattle.es_valid_arrows.proofs.FitPrograms.{law_arrows_fit_proof}
use Rattle.es_valid_arrows.proofs.ThisReads.{law_this_fits_proof}
use Rattle.es_unsupported.specs.FirstUnsupported.{first_unsupported}
use Rattle.es_unsupported.specs.Shapes.{is_unbuilt_node}
use Rattle.es_unsupported.proofs.ArrowsTaken.{law_arrows_taken_proof}
use Rattle.es_unsupported.proofs.Built.{law_built_proof}
use Rattle.es_steps.proofs.Opened.{finished-opened}
use Rattle.es_steps.proofs.Start.{law_start_proof}
use Rattle.lower_arrows.specs.Lowered.{ArrowsLowered, walk_rule}
use Rattle.es_starts.specs.Contexts.{IsNew}
use Rattle.es_starts.specs.Starts.{IsFirst}
use Rattle.es_starts.proofs.FirstConditions.{law_first_conditions_proof}
use Rattle.es_starts.proofs.FirstContext.{first-of-context}
use Rattle.es_starts.proofs.FirstFits.{law_fits_proof}
use Rattle.es_starts.proofs.FirstTable.{law_first_of_table_proof}
use Rattle.es_reached.specs.Reached.{IsResult, built_rules}
use Rattle.es_statement_steps.specs.Orders.{in_order}
use Rattle.es_reached.specs.Walks.{is_other_construct}
use Rattle.es_reached.proofs.BuiltRules.{built-all}
use Rattle.es_reached.proofs.Results.{law_first_proof, law_result_proof}
use Rattle.es_reached.proofs.BarePlaces.{law_bare_places_proof}
use Rattle.es_reached.proofs.FreeSteps.{law_no_usings_proof}
use Rattle.es_reached.proofs.WalkSteps.{law_walk_makes_none_proof}
use Rattle.es_reached.proofs.Sources.{law_bare_seen_proof, law_bare_source_proof}
use Rattle.lower_temporaries.specs.Takings.{moment_of, pending_of}
use Rattle.lower_temporaries.specs.declared.state.TransformState.{TransformState}
use Rattle.lower_driver.specs.Visits.{IsWalked, visit_ending, visit_profile}
use Rattle.es_helper_imports.proofs.BareConstructs.{same-arrows}
use Rattle.lower_driver.specs.Constructs.{is_lowered_construct, is_lowered_export}
use Rattle.lower_driver.proofs.EitherTest.{none-of-trees}
use Rattle.lower_driver.proofs.InOrder.{anyhow, arrow-order, whole-order, writing-order}
use Rattle.lower_driver.proofs.NoneLeft.{no-exports, no-usings, none-came, none-other, none-written}
use Rattle.lower_driver.proofs.Settled.{tree-settled}

-- the program's own list is the only one, and nothing is pending there at the end
pub alone-pending : (ps qs : List Pending) → Level ps qs → ps ≡ nothing_pending ∷ [] → top qs ≡ nothing_pending → qs ≡ nothing_pending ∷ []
alone-pending ps [] level start end = absurd (let e : zero ≡ suc zero = level.deep ∙ ap length start in cc e)
alone-pending ps (q ∷ qs) level start end = λ i. end i ∷ (level.outer ∙ ap below start) i

-- and there is room for a walk after the visit
pub walk-room : (a b : Moment) (t u : Tree) → KeptVisited 0 a t b u → HasRoom a (load t) → HasRoom b (weight u)
walk-room a b t u kept room = omega (arith, kept.lighter, room)

-- what stays as it is weighs no more
kept-itself : (a : Moment) (t : Tree) → KeptTree a t a t
kept-itself a t = record { level = record { deep = refl; outer = refl }; around = refl; options = refl; counted = omega arith; lighter = omega arith; nodes = omega arith }

-- THE FIRST MOMENT

swapped : (a b : Bool) → (a || b) ≡ (b || a)
swapped true true = refl
swapped true false = refl
swapped false true = refl
swapped false false = refl

module _ (p : Tree) (ctx : TraverseCtx TransformState) (new : IsNew p pending_of ctx) where
  first : IsFirst p (moment_of ctx)
  first = first-of-context p pending_of ctx new

  -- what is known of the whole is what the first step sees
  whole-first : whole_at (moment_of ctx) ≡ first_whole p
  whole-first =
      let t = law_first_of_table_proof p (table_of ctx) new.table in
      law_first_proof p (whole_at (moment_of ctx)) (record {
        in_use = λ x. first.in_use x ∙ swapped (is_written_name x) (is_among (names_of p) x);
        steady = t.steady;
        free_symbol = t.count;
        called = t.names;
        made = first.made;
      })

  first-heft : heft (moment_of ctx) ≡ ctx.ast.next
  first-heft = rw first.lists (omega arith)

  -- there is room for all that can be made
  pub first-room : (x : Program) → bare (plain_program x) ≡ bare p → ctx.ast.next < 2 ^ 20 → tree_size p < 10 * 2 ^ 20 → HasRoom (moment_of ctx) (load (plain_program x))
  first-room x same next small =
      let h = first-heft in
      let w = load-size (plain_program x) in
      let s : tree_size (plain_program x) ≡ tree_size p = sym (tree_size-bare (plain_program x)) ∙ ap tree_size same ∙ tree_size-bare p in
      omega (arith, h, w, s, next, small)

-- a context that was made of the table and the program with its marks is new
pub new-context : (p q : Tree) (s : Scoping) (ctx : TraverseCtx TransformState) → q ≡ marked_program p → IsTableOf p s → around_of ctx ≡ [] → ((x : Text) → uses_of ctx x ≡ is_among (names_of q) x) → made_of ctx ≡ [] → ctx.state.var_declarations ≡ nothing_pending ∷ [] → table_of ctx ≡ s → IsNew p pending_of ctx
new-context p q s ctx marks table place in_use none_made pending is_table = record {
  table = subst (IsTableOf p) (sym is_table) table;
  around = place;
  in_use = λ x. in_use x ∙ ap (λ (t : Tree). is_among (names_of t) x) marks;
  made = none_made;
  lists = pending;
}

-- the program with its marks has form where the program has
pub marked-form : (p q : Tree) → q ≡ marked_program p → has_form s-Program p ≡ true → has_form s-Program q ≡ true
marked-form p q marks form = sym (has_form-bare s-Program q) ∙ ap (has_form s-Program) (ap bare marks ∙ bare-marked-program p) ∙ has_form-bare s-Program p ∙ form

-- NAMES

pub names-bound : (free : ℕ) (xs : List Text) → names_among (bound_names free xs) ≡ xs
names-bound free [] = refl
names-bound free (x ∷ xs) = ap (λ ys. x ∷ ys) (names-bound free xs)

-- RULES

by-options : (o : EnvOptions) (n : Site) (s : Ledger) (x : Spot) (s' : Ledger) (y : Spot) → (visit_profile o).rule n s x s' y → with_further_rules o n s x s' y
by-options o n s x s' y (inl (inl w)) = inl (inl w)
by-options o n s x s' y (inl (inr w)) = inl (inr (inl w))
by-options o n s x s' y (inr (inl a)) = inl (inr (inr (inl a)))
by-options o n s x s' y (inr (inr (inl (inl b)))) = inl (inr (inr (inr (inl b))))
by-options o n s x s' y (inr (inr (inl (inr never)))) = absurd never
by-options o n s x s' y (inr (inr (inr (inl c)))) = inr (inl c)
by-options o n s x s' y (inr (inr (inr (inr (inl (inl r)))))) = object-spread-under o n s x s' y r
by-options o n s x s' y (inr (inr (inr (inr (inl (inr r)))))) = rest-assignment-under o n s x s' y r
by-options o n s x s' y (inr (inr (inr (inr (inr p))))) = inl (inr (inr (inr (inr p))))

-- and after the program
whole-options : (o : EnvOptions) (n : Site) (s : Ledger) (x : Spot) (s' : Ledger) (y : Spot) → whole_rule (visit_profile o) (visit_ending o) n s x s' y → with_further_rules o n s x s' y
whole-options o n s x s' y (inl r) = by-options o n s x s' y r
whole-options o n s x s' y (inr (inl never)) = absurd never
whole-options o n s x s' y (inr (inr (inl never))) = absurd never
whole-options o n s x s' y (inr (inr (inr (inl (inl (inl never)))))) = absurd never
whole-options o n s x s' y (inr (inr (inr (inl (inl (inr never)))))) = absurd never
whole-options o n s x s' y (inr (inr (inr (inl (inr (inl e)))))) = inr (inr (inl e))
whole-options o n s x s' y (inr (inr (inr (inl (inr (inr w)))))) = inl (inl w)
whole-options o n s x s' y (inr (inr (inr (inr (inl never))))) = absurd never
whole-options o n s x s' y (inr (inr (inr (inr (inr (inl (inl never))))))) = absurd never
whole-options o n s x s' y (inr (inr (inr (inr (inr (inl (inr never))))))) = absurd never
whole-options o n s x s' y (inr (inr (inr (inr (inr (inr never)))))) = absurd never

-- they are among those that are built, and in order
among-built : (o : EnvOptions) (n : Site) (s : Ledger) (x : Spot) (s' : Ledger) (y : Spot) → whole_rule (visit_profile o) (visit_ending o) n s x s' y → in_order o n s x s' y
among-built o n s x s' y r = (inl (whole-options o n s x s' y r), whole-order o n s x s' y r)

-- those of a walk over arrows are, or are of the walk
walk-among : (o : EnvOptions) (n : Site) (s : Ledger) (x : Spot) (s' : Ledger) (y : Spot) → walk_rule n s x s' y → either_rule (in_order o) ArrowWalkRule n s x s' y
walk-among o n s x s' y (inl w) = inl (inl (inl (inl w)), writing-order o n s x s' y w)
walk-among o n s x s' y (inr r) = inr r

has-arrows : (o : EnvOptions) → is_some o.es2015.arrow_function ≡ true → HasArrows o (in_order o)
has-arrows o on = record {
  among = λ n s s' x y r. built-all o n s x s' y r.0;
  arrows = λ n s s' x y r. (inr (subst (λ (b : Bool). where_on b ArrowRule n s x s' y) (sym on) r), arrow-order o n s x s' y r);
}

-- what is taken away there
alone : (b : Bool) → (b || false) ≡ b
alone true = refl
alone false = refl

exports-alone : (o : EnvOptions) → (visit_ending o).constructs ≡ is_lowered_export o
exports-alone o = λ i k l fs. alone (is_lowered_export o k l fs) i

-- the constructs that the hooks of expressions and of catch clauses remove, together
grouped : (a b c s r d e : Bool) → (a || b || c || e || s || r || d) ≡ ((false || (a || (((b || c) || false) || (false || ((s || r) || d))))) || (false || (false || (((false || false) || false) || (e || ((false || false) || false))))))
grouped a b c s r d e = grind arith

-- THE SOURCE, for the walk after the visit

kind-of-program : (t : Tree) → has_form s-Program t ≡ true → kind_of t ≡ k-Program
kind-of-program (node k l fs) h = (form-placed (node k l fs) h).0

source-formed : (p : Tree) → has_form s-Program p ≡ true → has_form s-Program (source p) ≡ true
source-formed p form = sym (has_form-bare s-Program (source p)) ∙ ap (has_form s-Program) (law_bare_source_proof p) ∙ has_form-bare s-Program p ∙ form

-- A program that was reached, with no other construct left but object rests, and how large it is, where the first id to be given was this.
pub record Arrived (c : EnvOptions) (p : Tree) (start : ℕ) (z : Program) (ctx : TraverseCtx TransformState) : Type 0 where
  pub steps : Steps (Step (in_order c) the_program) (nothing_beside (first_whole p)) (opened (source p)) (nothing_beside (whole_at (moment_of ctx))) (opened (seen (symbol_in (symbols_of p)) (plain_program z)))
  pub other : any_node (is_other_construct c) (seen (symbol_in (symbols_of p)) (plain_program z)) ≡ false
  pub arrows : (is_some c.es2015.arrow_function && any_node is_arrow (seen (symbol_in (symbols_of p)) (plain_program z))) ≡ false
  pub options : (moment_of ctx).options ≡ c
  pub size : tree_size (plain_program z) ≤ 31 * tree_size p
  pub given : (moment_of ctx).next ≤ 61 * tree_size p + start

-- STEPS

module _ (names : ℕ → Text → Option ℕ) where
  opened-there : (x : Program) (q : Pending) → q ≡ nothing_pending → open_program q (seen names (plain_program x)) ≡ opened (seen names (plain_program x))
  opened-there x q e = ap (λ (r : Pending). open_program r (seen names (plain_program x))) e

module _ (c : EnvOptions) (p : Tree) (ctx ctx' : TraverseCtx TransformState) (x y : Program) (new : IsNew p pending_of ctx) (form : has_form s-Program p ≡ true) (right : breaks p ≡ []) (taken : first_unsupported c p ≡ None) (marked : plain_program x ≡ marked_program p) where
  abbrev pub names : ℕ → Text → Option ℕ
  names = symbol_in (symbols_of p)

  abbrev pub result : Tree
  result = seen names (plain_program y)

  there : seen names (plain_program x) ≡ source p
  there = ap (seen names) marked

  begun : IsFirst p (moment_of ctx)
  begun = first p ctx new

  fits : Fits (moment_of ctx) the_program (seen names (plain_program x))
  fits = subst (λ (t : Tree). Fits (moment_of ctx) the_program t) (sym there) (law_fits_proof p (moment_of ctx) form right begun)

  known : holds_after (core_conditions c) the_program (seen names (plain_program x))
  known = subst (λ (t : Tree). holds_after (core_conditions c) the_program t) (sym there) (law_first_conditions_proof c p form right taken)

  visited-reached : VisitedProgram (visit_profile c) (visit_ending c) (moment_of ctx) (seen names (plain_program x)) (moment_of ctx') result → top (moment_of ctx').lists ≡ nothing_pending → Reached (in_order c) p (first_whole p) (made_of ctx') result
  visited-reached visited finished =
      let a = moment_of ctx in
      let b = moment_of ctx' in
      let R = whole_rule (visit_profile c) (visit_ending c) in
      let start : top a.lists ≡ nothing_pending = ap top begun.lists in
      let steps = visited.stepped start fits known in
      let before : open_program (top a.lists) (seen names (plain_program x)) ≡ opened (source p) = opened-there names x (top a.lists) start ∙ ap opened there in
      let after : open_program (top b.lists) result ≡ opened result = opened-there names y (top b.lists) finished in
      let whole = whole-first p ctx new in
      record {
        whole = whole_at b;
        steps = all_under R (in_order c) (among-built c) (subst (λ (z : Type 0). z) (λ i. Steps (Step R the_program) (ledger (whole i) nothing_pending None no_additions) (before i) (ledger (whole_at b) nothing_pending None no_additions) (after i)) steps);
        made = names-bound (whole_at b).free_symbol (made_of ctx');
      }

  -- WHAT THE SOURCE BECOMES

  written : bare result ≡ bare (plain_program y)
  written = law_bare_seen_proof names (plain_program y)

  formed : has_form s-Program (seen names (plain_program x)) ≡ true
  formed = sym (has_form-bare s-Program (seen names (plain_program x))) ∙ ap (has_form s-Program) (ap bare there ∙ law_bare_source_proof p) ∙ has_form-bare s-Program p ∙ form

  free-there : VisitedProgram (visit_profile c) (visit_ending c) (moment_of ctx) (seen names (plain_program x)) (moment_of ctx') result → any_in_trees (is_lowered_construct c) (seen_among names (trees y.body.items)) ≡ false
  free-there visited =
      let ts = seen_among names (trees y.body.items) in
      let start : top (moment_of ctx).lists ≡ nothing_pending = ap top begun.lists in
      let test : Hook → AstType → Label → Fields → Bool = (visit_profile c).constructs in
      let free : (h : Hook) → any_in_trees (test h) ts ≡ false = λ h. or_first (any_in_trees (test h) ts) false (visited.free start fits known (Some h)) in
      none-of-trees (test Expression) (test CatchClause) (is_lowered_construct c)
      (λ k l fs. grouped (c.es2021.logical_assignment_operators && is_lowered_assignment k l fs) (c.es2020.nullish_coalescing_operator && is_nullish_coalescing k l fs) (c.es2020.optional_chaining && is_chain k l fs)
      (is_some c.es2018.object_rest_spread && is_object_spread k l fs) (is_some c.es2018.object_rest_spread && is_lowered_rest k l fs) (c.es2016.exponentiation_operator && is_lowered_power k l fs)
      (c.es2019.optional_catch_binding && is_optional_catch k l fs)) ts (free Expression) (free CatchClause)

  -- AFTER THE VISIT

  fits_there : is_some c.es2015.arrow_function ≡ true → fits_arrows c p ≡ true
  fits_there on = law_arrows_taken_proof c p on taken

  unbuilt : any_node (is_unbuilt_node c) p ≡ false
  unbuilt = law_built_proof c p taken

  module _ (visited : VisitedProgram (visit_profile c) (visit_ending c) (moment_of ctx) (seen names (plain_program x)) (moment_of ctx') result) (finished : top (moment_of ctx').lists ≡ nothing_pending) where
    ordered : Reached (in_order c) p (first_whole p) (made_of ctx') result
    ordered = visited-reached visited finished

    between : Reached (built_rules c) p (first_whole p) (made_of ctx') result
    between = anyhow c p result (first_whole p) (made_of ctx') ordered

    reached_whole : ordered.whole ≡ whole_at (moment_of ctx')
    unfolding ordered visited-reached
    reached_whole = refl

    visited_result : IsResult c p (plain_program y) (made_of ctx')
    visited_result = law_result_proof c p (plain_program y) result (made_of ctx') form right fits_there between written

    visited_kept : place_breaks (plain_program y) ≡ []
    visited_kept = law_among_proof (plain_program y) visited_result.kept

    -- no target is left that the lowerings don't take, and no export below the program's own list; patterns with a rest may be
    other_none : any_node (is_other_construct c) result ≡ false
    other_none =
        let lowered = none-written c (label_of (seen names (plain_program x))) (label_of result) (seen_among names (trees x.directives.items)) (seen_among names (trees y.directives.items)) (seen_among names (trees x.body.items)) (seen_among names (trees y.body.items)) formed visited.directives (free-there visited) in
        let form' = sym (has_form-bare s-Program result) ∙ ap (has_form s-Program) written ∙ has_form-bare s-Program (plain_program y) ∙ visited_result.form in
        let kept' = law_bare_places_proof (plain_program y) result (sym written) visited_kept in
        let keeps = (law_places_proof result).to_places kept' in
        let start : top (moment_of ctx).lists ≡ nothing_pending = ap top begun.lists in
        let exports = no-exports c (label_of result) (many (seen_among names (trees y.directives.items))) (seen_among names (trees y.body.items)) form' kept' (ap (λ test. any_listed test (statements (seen_among names (trees y.body.items)) then done)) (sym (exports-alone c)) ∙ visited.cleared start fits known) in
        none-other c result (tree-settled c s-Program [] result form' keeps lowered) exports
        (none-came c.es2026.explicit_resource_management (any_node is_using p) (any_node is_using result) (law_no_usings_proof c p result (made_of ctx') between) (no-usings c p unbuilt))

    -- THE WALK OVER ARROWS may begin

    pub walk_formed : has_form s-Program (plain_program y) ≡ true
    walk_formed = visited_result.form

    pub walk_fits : is_some c.es2015.arrow_function ≡ true → each_this_fits (plain_program y) ≡ true
    walk_fits on =
        let there_fits = law_bare_fits_proof c p (source p) (sym (law_bare_source_proof p)) (fits_there on) in
        let after = law_arrows_fit_proof c (source p) (first_whole p) between.whole (opened result) (source-formed p form) there_fits between.steps in
        law_this_fits_proof c (plain_program y) visited_result.form visited_kept (law_bare_fits_proof c result (plain_program y) written (sym (ap (fits_arrows c) (finished-opened result)) ∙ after))

    -- WHAT THE WALK LEAVES, or the visit where there is none

    module _ (z : Program) (ctx'' : TraverseCtx TransformState) where
      abbrev last : Tree
      last = seen names (plain_program z)

      -- STEPS OF THE WALK

      walked : is_some c.es2015.arrow_function ≡ true → ArrowsLowered (moment_of ctx') result (moment_of ctx'') last → Steps (Step (in_order c) the_program) (nothing_beside (first_whole p)) (opened (source p)) (nothing_beside (whole_at (moment_of ctx''))) (opened last)
      unfolding ordered visited-reached
      walked on steps =
          let W = either_rule (in_order c) ArrowWalkRule in
          let first_steps = all_under (in_order c) W (λ n s x s' y r. inl r) ordered.steps in
          let later_steps = all_under walk_rule W (walk-among c) steps in
          walks-are-steps c (in_order c) (has-arrows c on) (source p) (first_whole p) (whole_at (moment_of ctx'')) (opened last) (kind-of-program (source p) (source-formed p form)) (law_start_proof p (first_whole p) form right (λ x e. rw e refl) (omega arith) (λ s. refl)) (law_first_uses_proof p form right) (steps-trans first_steps later_steps)

      walked_none : ArrowsLowered (moment_of ctx') result (moment_of ctx'') last → any_node (is_other_construct c) last ≡ false
      walked_none steps = law_walk_makes_none_proof c result last (whole_at (moment_of ctx')) (whole_at (moment_of ctx'')) steps other_none

      -- what is written is at most so large, and so many ids are given
      record IsSmall : Type 0 where
        size : tree_size (plain_program z) ≤ 31 * tree_size p
        given : (moment_of ctx'').next ≤ 61 * tree_size p + ctx.ast.next

      small-last : KeptVisited 0 (moment_of ctx) (plain_program x) (moment_of ctx') (plain_program y) → KeptTree (moment_of ctx') (plain_program y) (moment_of ctx'') (plain_program z) → IsSmall
      small-last kept then_kept =
          let h = first-heft p ctx new in
          let l = kept.lighter in
          let m = then_kept.lighter in
          let w = load-size (plain_program x) in
          let s : tree_size (plain_program x) ≡ tree_size p = ap tree_size marked ∙ (sym (tree_size-bare (marked_program p)) ∙ ap tree_size (bare-marked-program p) ∙ tree_size-bare p) in
          let b = size-weight (plain_program z) in
          let more = kept.nodes in
          let then_more = then_kept.nodes in
          let none : lists_size (moment_of ctx).lists ≡ 0 = ap lists_size begun.lists in
          record { size = omega (arith, h, l, m, w, s, b, more, then_more, none); given = omega (arith, h, l, m, w, s) }

    -- by the context's own options
    pub arrives : ctx.options ≡ c → KeptVisited 0 (moment_of ctx) (plain_program x) (moment_of ctx') (plain_program y) → (z : Program) (ctx'' : TraverseCtx TransformState) → IsWalked (is_some c.es2015.arrow_function) ctx' y ctx'' z → Arrived c p ctx.ast.next z ctx''
    arrives own kept z ctx'' walk = at (is_some c.es2015.arrow_function) refl
      where
        options-there : (moment_of ctx').options ≡ c
        options-there = kept.options ∙ own

        at : (asked : Bool) → is_some c.es2015.arrow_function ≡ asked → Arrived c p ctx.ast.next z ctx''
        at true on =
            let steps = walk.lowered on names in
            let small = small-last z ctx'' kept (walk.kept on) in
            record {
              steps = walked z ctx'' on steps;
              other = walked_none z ctx'' steps;
              arrows = ap (λ b. b && any_node is_arrow (last z ctx'')) on ∙ same-arrows (plain_program z) (last z ctx'') (law_bare_seen_proof names (plain_program z)) ∙ walk.none on;
              options = (walk.kept on).options ∙ options-there;
              size = small.size;
              given = small.given;
            }
        at false off =
            let small = small-last y ctx' kept (kept-itself (moment_of ctx') (plain_program y)) in
            let there : Arrived c p ctx.ast.next y ctx' = record {
              steps = subst (λ (w : Whole). Steps (Step (in_order c) the_program) (nothing_beside (first_whole p)) (opened (source p)) (nothing_beside w) (opened result)) reached_whole ordered.steps;
              other = other_none;
              arrows = ap (λ b. b && any_node is_arrow result) off;
              options = options-there;
              size = small.size;
              given = small.given;
            } in
            let same = walk.same off in
            subst (λ (w : Program). Arrived c p ctx.ast.next w ctx'') (sym same.0) (subst (λ (e : TraverseCtx TransformState). Arrived c p ctx.ast.next y e) (sym same.1) there)
