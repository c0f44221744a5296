-- From what the visit and the walk over arrows lead to, to what a source becomes: the walk that takes object rests.
use Rattle.std.proofs.Common.{◌≡◌, ◌∙◌, ◌+◌, ◌*◌, ◌≤◌, ◌<◌, ◌^◌, ◌-◌, ℕ, [], Option, None, arith, refl, sym, ap, subst, true≢false}
use Rattle.std.specs.Prelude.{Bool, true, false, ◌&&◌, ◌||◌, is_some, if◌then◌else◌}
use Rattle.es_tree.specs.Bare.{bare}
use Rattle.es_tree.specs.Constructs.{any_kind, has_enabled_construct, is_arrow, is_object_rest, is_rest}
use Rattle.es_tree.specs.HasForm.{has_form}
use Rattle.es_tree.specs.StaticRules.{breaks}
use Rattle.es_tree.specs.RestTargets.{is_rest_assignment}
use Rattle.es_tree.specs.Tree.{Tree, node, Label, Fields, done, ◌then◌, missing, one, many, statements, Trees, empty, ◌before◌, fields_size, kind_of, tree_size, trees_size}
use Rattle.es_tree.specs.Walks.{any_node}
use Rattle.es_tree.specs.Words.{Text}
use Rattle.es_tree.specs.declared.ast_type.AstType.{AstType}
use Rattle.es_tree.specs.declared.ast_type.AstType.TheVariants.{ObjectPattern, PatternProperty, Program as k-Program, RestElement, TargetRest}
use Rattle.es_tree.specs.declared.options.EnvOptions.{EnvOptions}
use Rattle.es_tree.specs.declared.table.Sort.TheVariants.{Program as s-Program}
use Rattle.es_tree.proofs.BareForm.{has_form-bare}
use Rattle.es_scope.specs.Contexts.{made_of}
use Rattle.es_scope.specs.declared.context.TraverseCtx.{TraverseCtx}
use Rattle.es_semantic.specs.SymbolsOf.{symbol_in, symbols_of}
use Rattle.es_statements.specs.ProgramPlain.{plain_program}
use Rattle.es_statements.specs.declared.program.Program.{Program}
use Rattle.es_resolution.specs.Laws.{source}
use Rattle.es_resolution.specs.Seen.{seen}
use Rattle.es_steps.specs.CoreBridge.{Reached, first_whole}
use Rattle.es_steps.specs.Laws.{nothing_beside}
use Rattle.es_steps.specs.Open.{opened}
use Rattle.es_steps.specs.Steps.{Step, Steps, Whole, the_program}
use Rattle.es_steps.specs.Steps.Steps.{stays}
use Rattle.es_changes.specs.Moments.{whole_at}
use Rattle.es_reached.specs.Reached.{IsResult, built_rules}
use Rattle.es_reached.specs.Walks.{is_other_construct}
use Rattle.es_reached.proofs.FreeSteps.{law_no_declared_rests_proof}
use Rattle.es_reached.proofs.Results.{law_core_result_proof, law_result_proof, program-kind}
use Rattle.es_reached.proofs.Sources.{law_bare_seen_proof, law_bare_source_proof}
use Rattle.es_rest_shapes.specs.RestShapes.{bears_second, is_misplaced, is_rest_declaration, is_stray_rest, reads_key}
use Rattle.es_rest_shapes.proofs.NoneLeft.{law_declared_rests_proof, law_none_left_proof}
use Rattle.es_rest_rows.specs.Laws.{is_other_construct as rest_others}
use Rattle.es_rest_rows.specs.RestRows.{RestWalkRow}
use Rattle.es_rest_rows.proofs.RestsMakeNone.{law_rests_make_none_proof}
use Rattle.es_rest_rows.proofs.DeclaredRests.{law_none_declared_proof}
use Rattle.es_rest_rows.proofs.StraySteps.{law_strays_not_made_proof}
use Rattle.es_lowered.specs.Lowered.{IsLowered}
use Rattle.es_lowered.proofs.Idle.{law_idle_proof}
use Rattle.es_lowered.proofs.Lowered.{law_lowered_alone_proof, law_lowered_proof}
use Rattle.es_rest_results.specs.Laws.{RunsTaken, TakesRestsAlone}
use Rattle.es_rest_results.proofs.Results.{law_none_taken_proof, law_rests_alone_proof}
use Rattle.es_import_runs.proofs.ImportingResults.{law_importing_result_proof}
use Rattle.es_statement_steps.specs.Orders.{in_order}
use Rattle.es_statement_steps.proofs.Results.{law_statement_result_proof}
use Rattle.es_top_names.proofs.SameSort.{law_same_sort_proof}
use Rattle.es_unsupported.specs.FirstUnsupported.{first_unsupported}
use Rattle.es_unsupported.proofs.ArrowsTaken.{law_arrows_taken_proof}
use Rattle.es_unsupported.proofs.StraysTaken.{law_strays_taken_proof}
use Rattle.es_unsupported.proofs.HelpersFree.{law_helpers_free_proof}
use Rattle.lower_nodes.specs.Nodes.{PaidTree, WalkedProgram, owed, owed_among, owed_in}
use Rattle.lower_object_rest.specs.Profile.{key_ids, key_ids_by, nested_ids, nested_ids_by, nested_ids_of, profile_where, rest_owes}
use Rattle.lower_temporaries.proofs.SeenLaws.{size-seen}
use Rattle.lower_temporaries.specs.Takings.{moment_of}
use Rattle.lower_temporaries.specs.declared.state.TransformState.{TransformState}
use Rattle.lower_driver.specs.Copies.{IsCopy}
use Rattle.lower_driver.specs.Lowers.{LowersInPlace, rests_there}
use Rattle.lower_driver.specs.Visits.{AreTaken}
use Rattle.es_helper_imports.proofs.BareConstructs.{same-constructs}
use Rattle.lower_driver.proofs.CoreNodes.{no-rest}
use Rattle.lower_driver.proofs.CopiedOptions.{copied-enabled, copied-reached, copied-unsupported}
use Rattle.lower_driver.proofs.InOrder.{anyhow}
use Rattle.lower_driver.proofs.NoneLeft.{assigns-no-rest, none-assigned, none-beside-rests, none-enabled, none-with-rests}
use Rattle.lower_driver.proofs.NoneUnsupported.{none-unsupported}
use Rattle.lower_driver.proofs.Untagged.{tags-are-no-chains}
use Rattle.lower_driver.proofs.Visits.{Arrived, names-bound}

-- IDS that a walk may give

-- What a pattern may have for the nodes of a list in its fields, and five for each other node: that many are left of those that it has itself.
abbrev children : Fields → ℕ
children done = 0
children (missing then fs) = children fs
children (one t then fs) = 5 + children fs
children (many ts then fs) = key_ids ts + nested_ids ts + children fs
children (statements ts then fs) = key_ids ts + nested_ids ts + children fs

-- what a rest among the members of a pattern has for it
abbrev for_pattern : Bool → ℕ
for_pattern b = if b then 10 else 0

abbrev of_rests : Fields → ℕ
of_rests (many ps then fs) = for_pattern (any_kind is_rest ps)
of_rests _ = 0

either-owed : (b : Bool) (n o m : ℕ) → (if b then 16 + n else 0) + o ≤ 6 + (n + o + m) + for_pattern b
either-owed true n o m = omega arith
either-owed false n o m = omega arith

own-owed : (k : AstType) (l : Label) (fs : Fields) → rest_owes k l fs ≤ 6 + children fs + of_rests fs
own-owed ObjectPattern l (many ps then fs) = either-owed (any_kind is_rest ps) (key_ids ps) (nested_ids ps) (children fs)
own-owed ObjectPattern l done = omega arith
own-owed ObjectPattern l (missing then fs) = omega arith
own-owed ObjectPattern l (one t then fs) = omega arith
own-owed ObjectPattern l (statements ts then fs) = omega arith
own-owed k l fs = omega arith

-- a node has some for its own key
some-key : (b : Bool) → 1 ≤ key_ids_by b
some-key true = omega arith
some-key false = omega arith

few-key : (b : Bool) → key_ids_by b ≤ 7
few-key true = omega arith
few-key false = omega arith

few-nested : (b : Bool) → nested_ids_by b ≤ 9
few-nested true = omega arith
few-nested false = omega arith

-- a property has enough for its key and for a pattern in its value
property-owed : (l : Label) (fs : Fields) → key_ids_by (reads_key (node PatternProperty l fs)) + nested_ids_by (bears_second fs) ≤ 11 + children fs
property-owed l (one k then (one v then done)) = omega (arith, few-key (reads_key (node PatternProperty l (one k then (one v then done)))), few-nested (bears_second (one k then (one v then done))))
property-owed l done = omega arith
property-owed l (missing then fs) = omega (arith, few-nested (bears_second (missing then fs)))
property-owed l (many ts then fs) = omega (arith, few-nested (bears_second (many ts then fs)))
property-owed l (statements ts then fs) = omega (arith, few-nested (bears_second (statements ts then fs)))
property-owed l (one k then done) = omega arith
property-owed l (one k then (missing then fs)) = omega (arith, few-nested (bears_second (one k then (missing then fs))))
property-owed l (one k then (many ts then fs)) = omega (arith, few-nested (bears_second (one k then (many ts then fs))))
property-owed l (one k then (statements ts then fs)) = omega (arith, few-nested (bears_second (one k then (statements ts then fs))))
property-owed l (one k then (one v then (f then fs))) = omega (arith, few-nested (bears_second (one k then (one v then (f then fs)))))

among-owed : (a b : Bool) (own later key n nested o size sizes : ℕ) → own + key + nested + for_pattern a ≤ 11 * size → later + n + o + for_pattern b ≤ 11 * sizes → own + later + (key + n) + (nested + o) + for_pattern (a || b) ≤ 11 * (size + sizes)
among-owed true b own later key n nested o size sizes first rest = omega arith
among-owed false b own later key n nested o size sizes first rest = omega arith

-- At most eleven for each node: what a pattern may have for its members is of those that they have, a property that owes none itself has seven for its
-- key and nine for a pattern in its value, and ten of a rest, which owes none itself, are for its pattern. Of each node five are left.
mutual
  few-owed-of : (t : Tree) → owed rest_owes t + key_ids_by (reads_key t) + nested_ids_of t + for_pattern (is_rest (kind_of t)) ≤ 11 * tree_size t
  few-owed-of (node RestElement l fs) = omega (arith, few-owed-in fs)
  few-owed-of (node TargetRest l fs) = omega (arith, few-owed-in fs)
  few-owed-of (node PatternProperty l fs) = omega (arith, property-owed l fs, few-owed-in fs)
  few-owed-of (node k l fs) = omega (arith, own-owed k l fs, few-owed-in fs)

  left-owed-of : (t : Tree) → owed rest_owes t + 5 ≤ 11 * tree_size t
  left-owed-of (node k l fs) = omega (arith, own-owed k l fs, few-owed-in fs)

  few-owed-in : (fs : Fields) → owed_in rest_owes fs + children fs + of_rests fs ≤ 11 * fields_size fs
  few-owed-in done = omega arith
  few-owed-in (missing then fs) = omega (arith, few-owed-in fs)
  few-owed-in (one t then fs) = omega (arith, left-owed-of t, few-owed-in fs)
  few-owed-in (many ts then fs) = omega (arith, few-owed-among ts, few-owed-in fs)
  few-owed-in (statements ts then fs) = omega (arith, few-owed-among ts, few-owed-in fs)

  few-owed-among : (ts : Trees) → owed_among rest_owes ts + key_ids ts + nested_ids ts + for_pattern (any_kind is_rest ts) ≤ 11 * trees_size ts
  few-owed-among empty = omega arith
  few-owed-among (t before ts) =
      among-owed (is_rest (kind_of t)) (any_kind is_rest ts) (owed rest_owes t) (owed_among rest_owes ts) (key_ids_by (reads_key t)) (key_ids ts) (nested_ids_of t) (nested_ids ts) (tree_size t) (trees_size ts) (few-owed-of t) (few-owed-among ts)

few-owed : (t : Tree) → owed rest_owes t + 1 ≤ 11 * tree_size t
few-owed t = omega (arith, few-owed-of t, some-key (reads_key t))

pub owed-room : (p : Tree) (z : Program) (next start : ℕ) → tree_size (plain_program z) ≤ 31 * tree_size p → next ≤ 61 * tree_size p + start → start < 2 ^ 20 → tree_size p < 10 * 2 ^ 20 → next + owed rest_owes (plain_program z) < 2 ^ 32 - 1
owed-room p z next start size given first small = omega (arith, few-owed (plain_program z), size, given, first, small)

-- WHAT A SOURCE BECOMES

misplaced-program : (t : Tree) → kind_of t ≡ k-Program → is_misplaced t ≡ false
misplaced-program (node k l fs) e = ap (λ (q : AstType). is_misplaced (node q l fs)) e

form-alike : (t u : Tree) → bare t ≡ bare u → has_form s-Program u ≡ true → has_form s-Program t ≡ true
form-alike t u same h = sym (has_form-bare s-Program t) ∙ ap (has_form s-Program) same ∙ has_form-bare s-Program u ∙ h

both-on : (a b : Bool) → a ≡ true → b ≡ true → (a && b) ≡ true
both-on a b e d = rw (e, d) refl

off-first : (a b : Bool) → a ≡ false → (a && b) ≡ false
off-first a b e = rw e refl

off-second : (a b : Bool) → b ≡ false → (a && b) ≡ false
off-second true b e = e
off-second false b e = refl

module _ (o c : EnvOptions) (copy : IsCopy o c) (p : Tree) (form : has_form s-Program p ≡ true) (right : breaks p ≡ []) (taken : first_unsupported c p ≡ None) (start : ℕ) where
  abbrev names : ℕ → Text → Option ℕ
  names = symbol_in (symbols_of p)

  taken_so : first_unsupported o p ≡ None
  taken_so = sym (copied-unsupported o c copy p) ∙ taken

  same-on : is_some o.es2018.object_rest_spread ≡ is_some c.es2018.object_rest_spread
  same-on = λ i. is_some (sym copy.es2018 i).object_rest_spread

  ordered-so : (z : Program) (ctx : TraverseCtx TransformState) → Steps (Step (in_order c) the_program) (nothing_beside (first_whole p)) (opened (source p)) (nothing_beside (whole_at (moment_of ctx))) (opened (seen names (plain_program z))) →
      Reached (in_order o) p (first_whole p) (made_of ctx) (seen names (plain_program z))
  ordered-so z ctx steps =
      copied-reached o c copy p (seen names (plain_program z)) (first_whole p) (made_of ctx) (record { whole = whole_at (moment_of ctx); steps = steps; made = names-bound (whole_at (moment_of ctx)).free_symbol (made_of ctx) })

  reached-so : (z : Program) (ctx : TraverseCtx TransformState) → Steps (Step (in_order c) the_program) (nothing_beside (first_whole p)) (opened (source p)) (nothing_beside (whole_at (moment_of ctx))) (opened (seen names (plain_program z))) →
      Reached (built_rules o) p (first_whole p) (made_of ctx) (seen names (plain_program z))
  reached-so z ctx steps = anyhow o p (seen names (plain_program z)) (first_whole p) (made_of ctx) (ordered-so z ctx steps)

  result-so : (z : Program) (ctx : TraverseCtx TransformState) → Reached (built_rules o) p (first_whole p) (made_of ctx) (seen names (plain_program z)) → IsResult o p (plain_program z) (made_of ctx)
  result-so z ctx reached = law_result_proof o p (plain_program z) (seen names (plain_program z)) (made_of ctx) form right (λ on. law_arrows_taken_proof o p on taken_so) reached (law_bare_seen_proof names (plain_program z))

  arrived-form : (z : Program) (ctx : TraverseCtx TransformState) → Arrived c p start z ctx → has_form s-Program (plain_program z) ≡ true
  arrived-form z ctx arrived = (result-so z ctx (reached-so z ctx arrived.steps)).form

  -- WHERE NO DECLARED REST IS TAKEN

  ends : (z : Program) (ctx : TraverseCtx TransformState) → Steps (Step (in_order c) the_program) (nothing_beside (first_whole p)) (opened (source p)) (nothing_beside (whole_at (moment_of ctx))) (opened (seen names (plain_program z))) →
      any_node (is_other_construct c) (seen names (plain_program z)) ≡ false → (is_some c.es2015.arrow_function && any_node is_arrow (seen names (plain_program z))) ≡ false → (is_some c.es2018.object_rest_spread && any_node is_object_rest (seen names (plain_program z))) ≡ false →
      tree_size (plain_program z) ≤ 31 * tree_size p → LowersInPlace o p (plain_program z) (made_of ctx)
  ends z ctx steps other arrows rests size =
      let becomes = result-so z ctx (reached-so z ctx steps) in
      let there = seen names (plain_program z) in
      record {
        result = law_lowered_alone_proof o p (plain_program z) (made_of ctx) becomes;
        none = sym (copied-enabled o c copy (plain_program z)) ∙ same-constructs c there (plain_program z) (sym (law_bare_seen_proof names (plain_program z))) ∙ none-enabled c there other rests arrows;
        core = λ core. law_core_result_proof o p (plain_program z) (made_of ctx) core right becomes;
        statements = λ no_rests runs. law_statement_result_proof o p (plain_program z) there (made_of ctx) runs (tags-are-no-chains o p taken_so) (assigns-no-rest o p no_rests) (ordered-so z ctx steps) (law_bare_seen_proof names (plain_program z));
        importing = λ no_rests class m imported last runs require goes. law_importing_result_proof o m p (plain_program z) imported there (made_of ctx) last class (tags-are-no-chains o p taken_so) (assigns-no-rest o p no_rests) runs becomes (ordered-so z ctx steps) (law_bare_seen_proof names (plain_program z)) (law_same_sort_proof o p (plain_program z) (made_of ctx) form right (law_lowered_alone_proof o p (plain_program z) (made_of ctx) becomes)) require goes;
        rests = λ alone. law_none_taken_proof o p (plain_program z) there (made_of ctx) alone (reached-so z ctx steps) (law_bare_seen_proof names (plain_program z));
        size = at (rests_there o p);
      }
    where
      at : (b : Bool) → tree_size (plain_program z) ≤ (if b then 372 else 64) * tree_size p
      at true = omega (arith, size)
      at false = omega (arith, size)

  module _ (z u : Program) (ctx d : TraverseCtx TransformState) (arrived : Arrived c p start z ctx) where
    abbrev there : Tree
    there = seen names (plain_program z)

    abbrev last : Tree
    last = seen names (plain_program u)

    reached : Reached (built_rules o) p (first_whole p) (made_of ctx) there
    reached = reached-so z ctx arrived.steps

    formed : has_form s-Program there ≡ true
    formed = form-alike there (plain_program z) (law_bare_seen_proof names (plain_program z)) (arrived-form z ctx arrived)

    -- WHERE RESTS ARE TAKEN

    module _ (on : is_some o.es2018.object_rest_spread ≡ true) (paid : PaidTree rest_owes (moment_of ctx) (plain_program z) (moment_of d) (plain_program u)) (walked : WalkedProgram (profile_where true) (moment_of ctx) there (moment_of d) last) where
      strays-source : any_node is_stray_rest p ≡ false
      strays-source = law_strays_taken_proof o p on form taken_so

      strays : any_node is_stray_rest there ≡ false
      strays = law_strays_not_made_proof o p there (made_of ctx) reached strays-source

      walk : Steps (Step RestWalkRow the_program) (nothing_beside (whole_at (moment_of ctx))) (opened there) (nothing_beside (whole_at (moment_of d))) (opened last)
      walk = walked.steps formed strays

      -- no assignment to a pattern with a rest is left
      assigned : any_node is_rest_assignment there ≡ false
      assigned = none-assigned c (sym same-on ∙ on) there (none-beside-rests c there arrived.other arrived.arrows)

      -- there is none
      idles : any_node is_rest_declaration p ≡ false → LowersInPlace o p (plain_program u) (made_of d)
      idles none =
          let free = law_no_declared_rests_proof o p there (made_of ctx) reached (law_none_declared_proof p (misplaced-program p (program-kind p form)) strays-source none) in
          let idle = law_idle_proof there last (whole_at (moment_of ctx)) (whole_at (moment_of d)) walk free in
          let same : last ≡ there = idle.0 in
          let rests = law_none_left_proof last (misplaced-program last (ap kind_of same ∙ program-kind there formed)) (walked.clear formed strays) (walked.none formed strays) (ap (any_node is_rest_assignment) same ∙ assigned) in
          let size : tree_size (plain_program u) ≡ tree_size (plain_program z) = sym (size-seen names (plain_program u)) ∙ ap tree_size same ∙ size-seen names (plain_program z) in
          let small = arrived.size in
          ends u d
          (subst (λ (t : Tree). Steps (Step (in_order c) the_program) (nothing_beside (first_whole p)) (opened (source p)) (nothing_beside (whole_at (moment_of d))) (opened t)) (sym same)
          (subst (λ (w : Whole). Steps (Step (in_order c) the_program) (nothing_beside (first_whole p)) (opened (source p)) (nothing_beside w) (opened there)) (sym idle.1) arrived.steps))
          (ap (any_node (is_other_construct c)) same ∙ arrived.other)
          (ap (λ (t : Tree). is_some c.es2015.arrow_function && any_node is_arrow t) same ∙ arrived.arrows)
          (off-second (is_some c.es2018.object_rest_spread) (any_node is_object_rest last) rests)
          (omega (arith, size, small))

      module _ (declared : any_node is_rest_declaration p ≡ true) where
        has : any_node is_object_rest p ≡ true
        has = at (any_node is_object_rest p) refl
          where
            at : (b : Bool) → any_node is_object_rest p ≡ b → b ≡ true
            at true e = refl
            at false e = absurd (true≢false (sym declared ∙ law_declared_rests_proof p e))

        lowered : IsLowered o p (plain_program u) (made_of d)
        unfolding reached reached-so ordered-so
        lowered =
            law_lowered_proof o p (plain_program u) there last (made_of ctx) (made_of d) (whole_at (moment_of d)) form right (λ asked. law_arrows_taken_proof o p asked taken_so) on (law_helpers_free_proof o p on taken_so declared) reached walk (names-bound (whole_at (moment_of d)).free_symbol (made_of d)) (law_bare_seen_proof names (plain_program u))

        rests-run : TakesRestsAlone o p → RunsTaken p (plain_program u)
        unfolding reached reached-so ordered-so
        rests-run alone = law_rests_alone_proof o p (plain_program u) there last (made_of ctx) (whole_at (moment_of d)) alone (law_helpers_free_proof o p on taken_so declared) reached walk (law_bare_seen_proof names (plain_program u))

        others : any_node (rest_others c) last ≡ false
        others = law_rests_make_none_proof c there last (whole_at (moment_of ctx)) (whole_at (moment_of d)) walk (none-beside-rests c there arrived.other arrived.arrows)

        none-last : any_node is_object_rest last ≡ false
        none-last = law_none_left_proof last (misplaced-program last (program-kind last (form-alike last (plain_program u) (law_bare_seen_proof names (plain_program u)) lowered.result.form))) (walked.clear formed strays) (walked.none formed strays) (none-assigned c (sym same-on ∙ on) last others)

        takes : LowersInPlace o p (plain_program u) (made_of d)
        takes =
            let there-is : rests_there o p ≡ true = both-on (is_some o.es2018.object_rest_spread) (any_node is_object_rest p) on has in
            let small = arrived.size in
            let few = few-owed (plain_program z) in
            let light = paid.lighter in
            let more = paid.nodes in
            record {
              result = lowered;
              none = sym (copied-enabled o c copy (plain_program u)) ∙ same-constructs c last (plain_program u) (sym (law_bare_seen_proof names (plain_program u))) ∙ none-with-rests c last others (off-second (is_some c.es2018.object_rest_spread) (any_node is_object_rest last) none-last);
              core = λ core. absurd (true≢false (sym has ∙ no-rest p core.core));
              statements = λ no_rests runs. absurd (true≢false (sym there-is ∙ no_rests));
              importing = λ no_rests class m imported last runs require goes. absurd (true≢false (sym there-is ∙ no_rests));
              rests = rests-run;
              size = rw there-is (omega (arith, small, few, light, more));
            }

    by-source : (on : is_some o.es2018.object_rest_spread ≡ true) → PaidTree rest_owes (moment_of ctx) (plain_program z) (moment_of d) (plain_program u) → WalkedProgram (profile_where true) (moment_of ctx) there (moment_of d) last → (b : Bool) → any_node is_rest_declaration p ≡ b →
        LowersInPlace o p (plain_program u) (made_of d)
    by-source on paid walked false none = idles on paid walked none
    by-source on paid walked true declared = takes on paid walked declared

    pub becomes : AreTaken (is_some c.es2018.object_rest_spread) ctx z d u → LowersInPlace o p (plain_program u) (made_of d)
    becomes rests = at (is_some c.es2018.object_rest_spread) refl
      where
        at : (asked : Bool) → is_some c.es2018.object_rest_spread ≡ asked → LowersInPlace o p (plain_program u) (made_of d)
        at false off =
            let same = rests.same off in
            subst (λ (w : Program). LowersInPlace o p (plain_program w) (made_of d)) (sym same.0)
            (subst (λ (e : TraverseCtx TransformState). LowersInPlace o p (plain_program z) (made_of e)) (sym same.1)
            (ends z ctx arrived.steps arrived.other arrived.arrows (off-first (is_some c.es2018.object_rest_spread) (any_node is_object_rest there) off) arrived.size))
        at true on = by-source (same-on ∙ on) (rests.paid on) (rests.taken on names) (any_node is_rest_declaration p) refl

-- A program in which no construct stands that the options ask to lower stays as it is.
pub stays-in-place : (o : EnvOptions) (p : Tree) → has_form s-Program p ≡ true → breaks p ≡ [] → has_enabled_construct o p ≡ false → LowersInPlace o p p []
stays-in-place o p form right none =
    let taken = none-unsupported o p none in
    let becomes = law_result_proof o p p (source p) [] form right (λ on. law_arrows_taken_proof o p on taken) (record { whole = first_whole p; steps = stays; made = refl }) (law_bare_source_proof p) in
    record {
      result = law_lowered_alone_proof o p p [] becomes;
      none = none;
      core = λ core. law_core_result_proof o p p [] core right becomes;
      statements = λ no_rests runs. law_statement_result_proof o p p (source p) [] runs (tags-are-no-chains o p taken) (assigns-no-rest o p no_rests) (record { whole = first_whole p; steps = stays; made = refl }) (law_bare_source_proof p);
      importing = λ no_rests class m imported last runs require goes. law_importing_result_proof o m p p imported (source p) [] last class (tags-are-no-chains o p taken) (assigns-no-rest o p no_rests) runs becomes (record { whole = first_whole p; steps = stays; made = refl }) (law_bare_source_proof p) refl require goes;
      rests = λ alone. law_none_taken_proof o p p (source p) [] alone (record { whole = first_whole p; steps = stays; made = refl }) (law_bare_source_proof p);
      size = at (rests_there o p);
    }
  where
    at : (b : Bool) → tree_size p ≤ (if b then 372 else 64) * tree_size p
    at true = omega arith
    at false = omega arith
