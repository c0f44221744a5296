-- The hooks of lists, parameters, bodies of arrows and the program.
use Rattle.std.proofs.Common.{◌≡◌, ◌∙◌, ◌+◌, ◌<◌, ◌≤◌, ℕ, refl, sym, ap, subst, arith, List, length, inl, Option, None, true≢false, [], ◌∷◌}
use Rattle.std.specs.Prelude.{Bool, true, false, not, ◌&&◌, ◌||◌, if◌then◌else◌}
use Rattle.std.proofs.lemmas.Bool.{and_parts, and_from}
use Rattle.es_tree.specs.HasForm.{has_form}
use Rattle.es_tree.specs.Tree.{Tree, node, Label, Fields, done, ◌then◌, many, statements, one, Trees, empty, ◌before◌, tree_size, trees_size}
use Rattle.es_tree.specs.Walks.{any_in_trees, any_node}
use Rattle.es_tree.specs.Words.{Text}
use Rattle.es_tree.specs.declared.ast_type.AstType.{AstType}
use Rattle.es_tree.specs.declared.ast_type.AstType.TheVariants.{Program}
use Rattle.es_tree.specs.declared.options.EnvOptions.{EnvOptions}
use Rattle.es_tree.specs.declared.table.Sort.TheVariants.{Program as s-Program, Statement as s-Statement}
use Rattle.es_tree.proofs.NodeForm.{node_form, has_form-node}
use Rattle.es_resolution.specs.Seen.{seen, seen_among}
use Rattle.es_runs.specs.Weights.{trees_weight, weight}
use Rattle.es_steps.specs.Nodes.{body_node, return_node}
use Rattle.es_steps.specs.Open.{Pending, body, body_with, child, is_statement_body, no_additions, nothing_pending, opened, opened_field, whole_list, written, written_body}
use Rattle.es_steps.specs.Rules.{Writing, either_rule}
use Rattle.es_steps.specs.Rules.Writing.{body_declarators, declarators}
use Rattle.es_steps.specs.Steps.{FieldStep, Ledger, Site, Steps}
use Rattle.es_steps.specs.Steps.FieldStep.{acts_on_body, acts_on_list}
use Rattle.es_steps.specs.Steps.FieldsStep.{in_first, in_later}
use Rattle.es_steps.specs.Steps.Step.{inside}
use Rattle.es_steps.specs.Steps.Steps.{goes, stays}
use Rattle.es_steps.specs.WrapRule.{WrapRule}
use Rattle.es_steps.proofs.FormLists.{IsPlain, plain-none, whole-formed}
use Rattle.es_visit.specs.Counts.{all_hooks, hooks_in, hooks_in_trees}
use Rattle.es_visit.specs.Calls.{KeepsAllIds, KeepsIds}
use Rattle.es_changes.specs.Changes.{Each, Kept, ListStepped, pending_size, pending_weight}
use Rattle.es_changes.specs.Moments.{Moment, ledger_with, top, with_pair}
use Rattle.es_traverse.specs.Laws.{EnteredList, EnteredParameters, Exited, ExitedBody, ExitedList, ExitedParameters, ExitedProgram, KeptTree, KeptTrees, Seen, SeenAmong, anything, is_construct, is_outermost, no_ending, opens_body, opens_list}
use Rattle.es_traverse.specs.Listed.{any_among}
use Rattle.es_traverse.proofs.Kept.{hooks-seen, hooks-seen-among}
use Rattle.es_traverse.proofs.NoHooks.{none-listed, exited-elsewhere}
use Rattle.lower_temporaries.specs.Declarators.{declarations_written}
use Rattle.lower_temporaries.specs.Store.{is_inert_pending}
use Rattle.lower_writing.specs.Writing.{MayBeWritten, after_writing, common_profile, ids_for, ids_for_body}
use Rattle.lower_writing.proofs.InertTrees.{none-written, written-size, written-weight}
use Rattle.lower_writing.proofs.Pairs.{body-pair, kept-emptied, no-pair, one-pair}
use Rattle.lower_temporaries.proofs.SeenLaws.{size-seen}
use Rattle.lower_writing.proofs.SeenWeights.{trees-size-seen, trees-weight-seen, weight-seen}
use Rattle.lower_writing.proofs.WrittenLists.{after-among, after-none, after-sum, among-less}
use Rattle.es_visit.specs.declared.hook.Hook.{Hook}

or-false : (a b : Bool) → a ≡ false → b ≡ false → (a || b) ≡ false
or-false a b e d = rw (e, d) refl

left-false : (a b : Bool) → (a || b) ≡ false → a ≡ false
left-false false b h = refl
left-false true b h = h

module _ (o : EnvOptions) where
  -- NODES AND PARAMETERS stay as they are

  pub exited-none : (h : Hook) (a : Moment) (t : Tree) → Exited (common_profile o) h a t a t
  exited-none h a t = exited-elsewhere (common_profile o) a (λ k l fs. refl) h t

  pub entered-parameters : (a : Moment) (ts : Trees) → EnteredParameters (common_profile o) a ts a ts
  entered-parameters a ts = record { stepped = λ n f k. stays; leaves = λ n f k. k }

  pub exited-parameters : (a : Moment) (ts : Trees) → ExitedParameters (common_profile o) a ts a ts
  exited-parameters a ts = record { stepped = λ n f k. stays; none = λ test w h. h; hooks = omega arith }

  -- LISTS

  pub entered-list : (a b : Moment) (ts : Trees) → opens_list true a ≡ b → EnteredList (common_profile o) true a ts b ts
  entered-list a b ts e = subst (λ c. EnteredList (common_profile o) true a ts c ts) e (record { stepped = λ n f k p. stays; leaves = λ n f k. k })

  exited-same : (a m : Moment) (ts : Trees) → a ≡ m → ListStepped (either_rule Writing (WrapRule o)) (Each anything) a ts m ts
  exited-same a m ts e = subst (λ c. ListStepped (either_rule Writing (WrapRule o)) (Each anything) a ts c ts) e (λ n f k p. stays)

  pub exited-outermost : (a : Moment) (ts : Trees) → is_outermost a.around ≡ true → ExitedList (common_profile o) true a ts a ts
  exited-outermost a ts e = record { stepped = exited-same a (opens_list true a) ts (sym (no-pair a e)); none = λ test w h. h; hooks = omega arith }

  list-written : (a : Moment) (ts : Trees) → ListStepped (either_rule Writing (WrapRule o)) (Each anything) a ts (with_pair (after_writing 0 a)) (whole_list (top a.lists) None no_additions ts)
  list-written a ts = λ n f k p. goes (acts_on_list ts (whole_list (top a.lists) None no_additions ts) (inl declarators)) stays

  none-whole : (p : Pending) (ts : Trees) (test : AstType → Label → Fields → Bool) → is_inert_pending p ≡ true → ((v : Tree) → MayBeWritten v → is_construct test v ≡ false) → any_in_trees test ts ≡ false → any_in_trees test (whole_list p None no_additions ts) ≡ false
  none-whole p ts test inert f h = after-none test (written p empty) ts (none-written test f p empty inert refl) h

  exited-whole : (a : Moment) (ts : Trees) → is_outermost a.around ≡ false → is_inert_pending (top a.lists) ≡ true → hooks_in_trees ts ≤ hooks_in_trees (whole_list (top a.lists) None no_additions ts) → ExitedList (common_profile o) true a ts (after_writing 0 a) (whole_list (top a.lists) None no_additions ts)
  exited-whole a ts e inert more = record {
    stepped = subst (λ m. ListStepped (either_rule Writing (WrapRule o)) (Each anything) a ts m (whole_list (top a.lists) None no_additions ts)) (sym (one-pair (after_writing 0 a) e)) (list-written a ts);
    none = λ test f h. none-whole (top a.lists) ts test inert f h;
    hooks = more;
  }

  pub exited-inner : (a b : Moment) (ts us : Trees) → is_outermost a.around ≡ false → is_inert_pending (top a.lists) ≡ true → b ≡ after_writing 0 a → us ≡ whole_list (top a.lists) None no_additions ts → hooks_in_trees ts ≤ hooks_in_trees us → ExitedList (common_profile o) true a ts b us
  exited-inner a b ts us e inert h g more =
      subst (λ m. ExitedList (common_profile o) true a ts m us) (sym h)
      (subst (λ vs. ExitedList (common_profile o) true a ts (after_writing 0 a) vs) (sym g) (exited-whole a ts e inert (subst (λ vs. hooks_in_trees ts ≤ hooks_in_trees vs) g more)))

  -- the same of the statements themselves
  none-among-whole : (p : Pending) (ts : Trees) (test : AstType → Label → Fields → Bool) → is_inert_pending p ≡ true → ((v : Tree) → MayBeWritten v → is_construct test v ≡ false) → any_among test ts ≡ false → any_among test (whole_list p None no_additions ts) ≡ false
  none-among-whole p ts test inert f h = after-among test (written p empty) ts (among-less test (written p empty) (none-written test f p empty inert refl)) h

  -- THE PROGRAM, with its pair opened again

  program-formed : (l : Label) (ds ts : Trees) (p : Pending) → IsPlain p → has_form s-Program (node Program l (many ds then statements ts then done)) ≡ true → has_form s-Program (node Program l (many ds then statements (whole_list p None no_additions ts) then done)) ≡ true
  program-formed l ds ts p plain h =
      let was = node_form s-Program Program l (many ds then statements ts then done) h in
      let parts = and_parts _ _ was.children in
      has_form-node s-Program Program l (many ds then statements (whole_list p None no_additions ts) then done) (record {
        sort = was.sort;
        texts = was.texts;
        flags = was.flags;
        start = was.start;
        stop = was.stop;
        agree = refl;
        children = and_from _ _ parts.0 (and_from _ true (whole-formed s-Statement p None no_additions ts refl (record { vars = plain; this = refl; top = refl }) (and_parts _ true parts.1).0) refl);
      })

  program-written : (a : Moment) (l : Label) (ds ts : Trees) → is_inert_pending (top a.lists) ≡ true →
      ExitedProgram (common_profile o) no_ending true a (node Program l (many ds then statements ts then done)) (with_pair (after_writing 0 a)) (node Program l (many ds then statements (whole_list (top a.lists) None no_additions ts) then done))
  program-written a l ds ts inert = record {
    stepped = λ k. goes (inside (in_later (in_first (acts_on_list ts (whole_list (top a.lists) None no_additions ts) (inl (inl declarators)))))) stays;
    stays = λ k. record { formed = program-formed l ds ts (top a.lists) k.plain k.formed; plain = plain-none };
    cleared = λ k. none-listed (statements (whole_list (top a.lists) None no_additions ts) then done);
    finished = λ k. refl;
    directives = refl;
    none = λ test f h. or-false _ _ (none-whole (top a.lists) ts test inert f (left-false (any_in_trees test ts) false h)) refl;
    none_listed = λ test f h. or-false _ _ (none-among-whole (top a.lists) ts test inert f (left-false (any_among test ts) false h)) refl;
  }

  pub exited-program : (a b : Moment) (l : Label) (ds ts us : Trees) → is_inert_pending (top a.lists) ≡ true → b ≡ with_pair (after_writing 0 a) → us ≡ whole_list (top a.lists) None no_additions ts →
      ExitedProgram (common_profile o) no_ending true a (node Program l (many ds then statements ts then done)) b (node Program l (many ds then statements us then done))
  exited-program a b l ds ts us inert h g =
      subst (λ m. ExitedProgram (common_profile o) no_ending true a (node Program l (many ds then statements ts then done)) m (node Program l (many ds then statements us then done))) (sym h)
      (subst (λ vs. ExitedProgram (common_profile o) no_ending true a (node Program l (many ds then statements ts then done)) (with_pair (after_writing 0 a)) (node Program l (many ds then statements vs then done))) (sym g) (program-written a l ds ts inert))

  -- BODIES OF ARROWS

  pub exited-statements : (a : Moment) (t : Tree) → is_statement_body t ≡ true → ExitedBody (common_profile o) true a t a t
  exited-statements a t e = record { closed = λ k. absurd (true≢false (sym k ∙ ap (λ b. true && not b) e)); same = λ k. (refl, refl); none = λ test w h. h; hooks = omega arith }

  -- the steps of a body: nothing changes where nothing is pending
  body-steps : (n : Site) (s : Ledger) (vs ls : List Tree) (t : Tree) → is_statement_body t ≡ false →
      Steps (FieldStep (either_rule Writing (WrapRule o)) n) s (body (record { vars = vs; lets = ls }) (opened t)) s (opened_field true (one (body_with vs ls t)))
  body-steps n s [] [] t e = subst (λ b. Steps (FieldStep (either_rule Writing (WrapRule o)) n) s (body nothing_pending (opened t)) s (if b then child (opened t) else body nothing_pending (opened t))) (sym e) stays
  body-steps n s (v ∷ vs) ls t e = goes (acts_on_body t (body_with (v ∷ vs) ls t) (inl body_declarators)) stays
  body-steps n s [] (v ∷ ls) t e = goes (acts_on_body t (body_with [] (v ∷ ls) t) (inl body_declarators)) stays

  none-body : (test : AstType → Label → Fields → Bool) → ((v : Tree) → MayBeWritten v → is_construct test v ≡ false) → (p : Pending) (t : Tree) → is_inert_pending p ≡ true → any_node test t ≡ false →
      any_node test (body_node (written p (return_node t before empty))) ≡ false
  none-body test f p t inert h =
      let returned : any_in_trees test (return_node t before empty) ≡ false = or-false _ _ (or-false _ _ (f (return_node t) refl) (or-false _ _ h refl)) refl in
      or-false _ _ (f (body_node (written p (return_node t before empty))) refl) (or-false _ _ (none-written test f p (return_node t before empty) inert returned) refl)

  none-written-body : (test : AstType → Label → Fields → Bool) → ((v : Tree) → MayBeWritten v → is_construct test v ≡ false) → (vs ls : List Tree) (t : Tree) → is_inert_pending (record { vars = vs; lets = ls }) ≡ true → any_node test t ≡ false →
      any_node test (body_with vs ls t) ≡ false
  none-written-body test f [] [] t inert h = h
  none-written-body test f (v ∷ vs) ls t inert h = none-body test f (record { vars = v ∷ vs; lets = ls }) t inert h
  none-written-body test f [] (v ∷ ls) t inert h = none-body test f (record { vars = []; lets = v ∷ ls }) t inert h

  body-written : (more : ℕ) (a : Moment) (t : Tree) → is_statement_body t ≡ false → is_inert_pending (top a.lists) ≡ true → hooks_in t ≤ hooks_in (written_body (top a.lists) t) → ExitedBody (common_profile o) true a t (after_writing more a) (written_body (top a.lists) t)
  body-written more a t e inert hooks = record {
    closed = λ k. ((λ n f p. body-steps n (ledger_with p a) (top a.lists).vars (top a.lists).lets t e), refl);
    same = λ k. absurd (true≢false (sym (ap (λ b. true && not b) e) ∙ k));
    none = λ test f h. none-written-body test f (top a.lists).vars (top a.lists).lets t inert h;
    hooks = hooks;
  }

  pub exited-body : (more : ℕ) (a b : Moment) (t u : Tree) → is_statement_body t ≡ false → is_inert_pending (top a.lists) ≡ true → b ≡ after_writing more a → u ≡ written_body (top a.lists) t → hooks_in t ≤ hooks_in u → ExitedBody (common_profile o) true a t b u
  exited-body more a b t u e inert h g hooks =
      subst (λ m. ExitedBody (common_profile o) true a t m u) (sym h)
      (subst (λ v. ExitedBody (common_profile o) true a t (after_writing more a) v) (sym g) (body-written more a t e inert (subst (λ v. hooks_in t ≤ hooks_in v) g hooks)))

-- WHAT IS KEPT

abbrev no_names : ℕ → Text → Option ℕ
no_names s x = None

whole-weight : (p : Pending) (ts us : Trees) → seen_among no_names us ≡ whole_list p None no_additions (seen_among no_names ts) → trees_weight us ≡ trees_weight (written p empty) + trees_weight ts
whole-weight p ts us h =
    let seen-now = trees-weight-seen no_names us in
    let seen-before = trees-weight-seen no_names ts in
    let all = ap trees_weight h in
    let parts = after-sum trees_weight weight refl (λ t us. refl) (written p empty) (seen_among no_names ts) in
    omega (arith, seen-now, seen-before, all, parts)

whole-size : (p : Pending) (ts us : Trees) → seen_among no_names us ≡ whole_list p None no_additions (seen_among no_names ts) → trees_size us ≡ trees_size (written p empty) + trees_size ts
whole-size p ts us h =
    let seen-now = trees-size-seen no_names us in
    let seen-before = trees-size-seen no_names ts in
    let all = ap trees_size h in
    let parts = after-sum trees_size tree_size refl (λ t us. refl) (written p empty) (seen_among no_names ts) in
    omega (arith, seen-now, seen-before, all, parts)

abbrev pub IsWhole : Pending → Trees → Trees → Type 0
IsWhole p ts us = SeenAmong (λ vs ws. ws ≡ whole_list p None no_additions vs) ts us

-- of a list, with a pair opened again
pub kept-list : (a : Moment) (ts us : Trees) → 0 < length a.lists → IsWhole (top a.lists) ts us → KeptTrees a ts (with_pair (after_writing 0 a)) us
kept-list a ts us there h =
    let p = top a.lists in
    kept-emptied 0 a (trees_weight ts) (trees_size ts) (trees_weight us) (trees_size us) there
    (omega (arith, whole-weight p ts us (h no_names), written-weight p empty))
    (omega (arith, whole-size p ts us (h no_names), written-size p empty))

pub kept-inner : (a b : Moment) (ts us : Trees) → 0 < length a.lists → is_outermost a.around ≡ false → b ≡ after_writing 0 a → IsWhole (top a.lists) ts us → KeptTrees a ts (opens_list true b) us
kept-inner a b ts us there e h g = subst (λ m. KeptTrees a ts (opens_list true m) us) (sym h) (subst (λ m. KeptTrees a ts m us) (sym (one-pair (after_writing 0 a) e)) (kept-list a ts us there g))

-- of the program
pub kept-program : (a b : Moment) (l : Label) (ds ts us : Trees) → 0 < length a.lists → b ≡ with_pair (after_writing 0 a) → IsWhole (top a.lists) ts us →
    KeptTree a (node Program l (many ds then statements ts then done)) b (node Program l (many ds then statements us then done))
kept-program a b l ds ts us there h g =
    let p = top a.lists in
    subst (λ m. KeptTree a (node Program l (many ds then statements ts then done)) m (node Program l (many ds then statements us then done))) (sym h)
    (kept-emptied 0 a (weight (node Program l (many ds then statements ts then done))) (tree_size (node Program l (many ds then statements ts then done))) (weight (node Program l (many ds then statements us then done))) (tree_size (node Program l (many ds then statements us then done))) there
    (omega (arith, whole-weight p ts us (g no_names), written-weight p empty))
    (omega (arith, whole-size p ts us (g no_names), written-size p empty)))

-- of the body of an arrow
body-weight : (p : Pending) (t : Tree) → weight (written_body p t) + ids_for_body p + declarations_written p ≤ pending_weight p + weight t + 4
body-weight p t = at p.vars p.lets
  where
    full : (p : Pending) → weight (body_node (written p (return_node t before empty))) + 2 + declarations_written p ≤ pending_weight p + weight t + 4
    full p = omega (arith, written-weight p (return_node t before empty))

    at : (vs ls : List Tree) → weight (body_with vs ls t) + ids_for vs ls + declarations_written (record { vars = vs; lets = ls }) ≤ pending_weight (record { vars = vs; lets = ls }) + weight t + 4
    at [] [] = omega arith
    at (v ∷ vs) ls = full (record { vars = v ∷ vs; lets = ls })
    at [] (v ∷ ls) = full (record { vars = []; lets = v ∷ ls })

body-size : (p : Pending) (t : Tree) → tree_size (written_body p t) ≤ pending_size p + declarations_written p + ids_for_body p + tree_size t
body-size p t = at p.vars p.lets
  where
    full : (p : Pending) → tree_size (body_node (written p (return_node t before empty))) ≤ pending_size p + declarations_written p + 2 + tree_size t
    full p = omega (arith, written-size p (return_node t before empty))

    at : (vs ls : List Tree) → tree_size (body_with vs ls t) ≤ pending_size (record { vars = vs; lets = ls }) + declarations_written (record { vars = vs; lets = ls }) + ids_for vs ls + tree_size t
    at [] [] = omega arith
    at (v ∷ vs) ls = full (record { vars = v ∷ vs; lets = ls })
    at [] (v ∷ ls) = full (record { vars = []; lets = v ∷ ls })

pub kept-body : (a b : Moment) (t u : Tree) → 0 < length a.lists → is_statement_body t ≡ false → b ≡ after_writing (ids_for_body (top a.lists)) a → Seen (λ v w. w ≡ written_body (top a.lists) v) t u →
    Kept a (weight t + 4) (tree_size t) (opens_body true t b) (weight u) (tree_size u)
kept-body a b t u there e h g =
    let p = top a.lists in
    let w = ap weight (g no_names) in
    let s = ap tree_size (g no_names) in
    let ids = ids_for_body p in
    subst (λ m. Kept a (weight t + 4) (tree_size t) m (weight u) (tree_size u)) (sym (body-pair t b e))
    (subst (λ m. Kept a (weight t + 4) (tree_size t) (with_pair m) (weight u) (tree_size u)) (sym h)
    (kept-emptied ids a (weight t + 4) (tree_size t) (weight u) (tree_size u) there
    (omega (arith, w, weight-seen no_names t, weight-seen no_names u, body-weight p (seen no_names t)))
    (omega (arith, s, size-seen no_names t, size-seen no_names u, body-size p (seen no_names t)))))

-- HOOKS, which are counted by what is seen

module _ (names : ℕ → Text → Option ℕ) where
  pub hooks-kept : (ts us : Trees) → KeepsAllIds ts us → hooks_in_trees (seen_among names ts) ≤ hooks_in_trees (seen_among names us)
  hooks-kept ts us h = let more = h all_hooks in omega (arith, more, hooks-seen-among names ts, hooks-seen-among names us)

  pub hooks-kept-in : (t u : Tree) → KeepsIds t u → hooks_in (seen names t) ≤ hooks_in (seen names u)
  hooks-kept-in t u h = let more = h.all all_hooks in omega (arith, more, hooks-seen names t, hooks-seen names u)
