-- The rows of a walk act at nodes and ask of the site only what stands above. What isn't lowered as a statement, static blocks among it, they leave of
-- its kind, with what it declares: so those in the body of an arrow that is an expression are steps of the field where it stands.
use Rattle.std.proofs.Common.{◌≡◌, ◌∙◌, ℕ, zero, suc, refl, sym, ap, subst, [], ◌++◌, inl, inr, true≢false}
use Rattle.std.specs.Prelude.{Bool, true, false, not, is_some, if◌then◌else◌}
use Rattle.es_tree.specs.Children.{child_at}
use Rattle.es_tree.specs.HasForm.{has_form, same_type}
use Rattle.es_tree.specs.Tree.{Tree, Trees, Fields, Label, done, empty, kind_of, many, node, one, statements, ◌before◌, ◌then◌}
use Rattle.es_tree.specs.declared.ast_type.AstType.{AstType}
use Rattle.es_tree.specs.declared.ast_type.AstType.TheVariants.{ArrowFunctionExpression, BlockStatement, ForStatement, FunctionBody, FunctionDeclaration, FunctionExpression, ImportDeclaration, LabeledStatement, Program, StaticBlock, SwitchStatement}
use Rattle.es_tree.specs.declared.table.Sort.TheVariants.{ArrowFunctionBody as s-ArrowFunctionBody}
use Rattle.es_resolution.specs.Declarations.{declared, declared_by, declared_in, declared_among, is_var_scope, own_declared, reaches_out}
use Rattle.es_resolution.proofs.Roles.{role-same}
use Rattle.es_semantic.specs.RolesOf.{reads, role_at}
use Rattle.es_semantic.specs.declared.place.Role.{Role}
use Rattle.es_changes.proofs.Expressions.{body-expression}
use Rattle.es_steps.specs.Open.{Open, OpenField, OpenFields, OpenTrees, Pending, body, finished, finished_field, finished_fields, finished_trees, is_body, is_statement_body, nothing_pending, opened, opened_field, opened_fields, written_body}
use Rattle.es_steps.specs.Sites.{IsLocal}
use Rattle.es_steps.specs.Steps.{FieldStep, FieldsStep, IsExpression, Ledger, Site, Spot, Step, Steps, TreesStep, ledger, site_in_body}
use Rattle.es_steps.specs.Steps.FieldStep.{acts_on_body, acts_on_list, in_body, in_child, in_children, in_list, in_program, in_target}
use Rattle.es_steps.specs.Steps.FieldsStep.{in_first, in_later}
use Rattle.es_steps.specs.Steps.Spot.{at_beside, at_body, at_node}
use Rattle.es_steps.specs.Steps.Step.{acts, inside}
use Rattle.es_steps.specs.Steps.TreesStep.{acts_on_flanked, after_flanked, flanks, in_flanked, in_head, in_tail}
use Rattle.es_steps.specs.UsingBlocks.{is_statement_place}
use Rattle.es_steps.specs.UsingLoops as loops
use Rattle.es_steps.proofs.FormRules.{AtNodes}
use Rattle.es_steps.proofs.Opened.{finished-opened}
use Rattle.es_steps.proofs.Taken.{pending_in, this_in, top_in, whole_in}
use Rattle.es_rest_steps.proofs.RowsInside.{body-row as body-inside, no_names, same-roles}
use Rattle.es_using_rows.specs.Used.{Makes, constants, tried, used_arrow, used_body, used_function, used_node, used_static_block}
use Rattle.es_using_rows.specs.UsingPlaces.{uses_here, uses_in_arrow, uses_in_body, uses_in_function, uses_in_static_block}
use Rattle.es_using_rows.specs.UsingRows.{StandsSo, UsingWalkRow, making}
use Rattle.es_using_rows.specs.UsingRows.UsingWalkRow.{uses}
use Rattle.es_using_rows.specs.declared.standing.Standing.{Standing}
use Rattle.es_using_rows.proofs.UsedQuiet.{AreQuietFields, AreQuietTrees, IsQuiet, IsQuietField, body-is-quiet, is_lowered}

-- WHAT IS DECLARED around a body is none of the matter inside it

none-counts : (v : Bool) (counts : ℕ → Bool) (roles : ℕ → Role) (fs : Fields) → ((i : ℕ) → counts i ≡ false) → declared_in v counts roles fs ≡ []
none-counts v counts roles done e = refl
none-counts v counts roles (f then fs) e = λ i. (if e zero i then declared_by v (roles zero) f else []) ++ none-counts v (λ j. counts (suc j)) (λ j. roles (suc j)) fs (λ j. e (suc j)) i

scope-counts : (v : Bool) (k : AstType) → is_var_scope k ≡ true → (i : ℕ) → reaches_out v k i ≡ false
scope-counts true k e i = ap not e
scope-counts false Program e i = refl
scope-counts false FunctionBody e i = refl
scope-counts false StaticBlock e i = refl
scope-counts false k e i = absurd (cc e)

scope-declares : (v : Bool) (r : Role) (k : AstType) (l : Label) (fs gs : Fields) → is_var_scope k ≡ true → declared v r (node k l gs) ≡ declared v r (node k l fs)
scope-declares v r k l fs gs e =
    ap (λ ds. own_declared v r k l ++ ds) (none-counts v (reaches_out v k) (role_at r k l gs) gs (scope-counts v k e) ∙ sym (none-counts v (reaches_out v k) (role_at r k l fs) fs (scope-counts v k e)))

-- EXPRESSIONS: a rule that acts at statements, or leaves of a function all but its body, leaves them expressions

-- a quiet tree becomes one, of the same kind, that declares the same
pub record Kept (t u : Open) : Type 0 where
  pub quiet : IsQuiet u
  pub kind : kind_of (finished u) ≡ kind_of (finished t)
  pub declares : (v : Bool) (r : Role) → declared v r (finished u) ≡ declared v r (finished t)

module _ (R : Site → Ledger → Spot → Ledger → Spot → Type 0) (local : IsLocal (λ s. no_names) R) (only : (n : Site) (s s' : Ledger) (x y : Spot) → R n s x s' y → AtNodes x y)
    (same : (n : Site) (s s' : Ledger) (x y : Spot) → R n s x s' y → pending_in s' ≡ pending_in s) (row-kept : (n : Site) (s s' : Ledger) (t u : Tree) → R n s (at_node t) s' (at_node u) → IsQuiet (opened t) → Kept (opened t) (opened u)) where
  -- nothing becomes pending
  mutual
    step-same : {n : Site} {s s' : Ledger} {t u : Open} → Step R n s t s' u → pending_in s' ≡ pending_in s
    step-same (acts {n = n} {s = s} {s' = s'} t u h) = same n s s' (at_node t) (at_node u) h
    step-same (inside h) = fields-same h

    fields-same : {c : ℕ → Site} {s s' : Ledger} {fs gs : OpenFields} → FieldsStep R c s fs s' gs → pending_in s' ≡ pending_in s
    fields-same (in_first h) = field-same h
    fields-same (in_later h) = fields-same h

    field-same : {n : Site} {s s' : Ledger} {f g : OpenField} → FieldStep R n s f s' g → pending_in s' ≡ pending_in s
    field-same (in_child h) = step-same h
    field-same (in_children h) = trees-same h
    field-same (in_body e x y h) = refl
    field-same (in_list e d h) = refl
    field-same (in_target e h) = refl
    field-same (in_program e h) = refl
    field-same (acts_on_list {n = n} {s = s} {s' = s'} {p = p} {q = q} {x = x} {y = y} {a = a} {b = b} ts us h) = absurd (only n s s' _ _ h)
    field-same (acts_on_body {n = n} {s = s} {s' = s'} {p = p} t u h) = absurd (only n s s' (at_body p t) (at_node u) h)

    trees-same : {n : Site} {s s' : Ledger} {ts us : OpenTrees} → TreesStep R n s ts s' us → pending_in s' ≡ pending_in s
    trees-same (in_head h) = step-same h
    trees-same (in_tail h) = trees-same h
    trees-same (in_flanked h) = step-same h
    trees-same (after_flanked h) = trees-same h
    trees-same (flanks {n = n} {s = s} {s' = s'} {bs = bs} {cs = cs} t u h) = absurd (only n s s' (at_node t) (at_beside bs u cs) h)
    trees-same (acts_on_flanked {n = n} {s = s} {s' = s'} {bs = bs} {cs = cs} t us h) = absurd (only n s s' (at_beside bs t cs) _ h)

  record KeptIn (fs gs : OpenFields) : Type 0 where
    quiet : AreQuietFields gs
    declares : (v : Bool) (counts : ℕ → Bool) (roles : ℕ → Role) → declared_in v counts roles (finished_fields gs) ≡ declared_in v counts roles (finished_fields fs)

  record KeptBy (f g : OpenField) : Type 0 where
    quiet : IsQuietField g
    declares : (v : Bool) (r : Role) → declared_by v r (finished_field g) ≡ declared_by v r (finished_field f)

  record KeptAmong (ts us : OpenTrees) : Type 0 where
    quiet : AreQuietTrees us
    declares : (v : Bool) (r : Role) → declared_among v r (finished_trees us) ≡ declared_among v r (finished_trees ts)

  mutual
    step-kept : {n : Site} {s s' : Ledger} {t u : Open} → Step R n s t s' u → IsQuiet t → Kept t u
    step-kept (acts {n = n} {s = s} {s' = s'} t u h) quiet = row-kept n s s' t u h quiet
    step-kept (inside {k = k} {l = l} {fs = fs} {gs = gs} h) (inl e) = record { quiet = inl e; kind = refl; declares = λ v r. scope-declares v r k l (finished_fields fs) (finished_fields gs) e }
    step-kept (inside {k = k} {l = l} {fs = fs} {gs = gs} h) (inr quiet) =
        let kept = fields-kept h quiet.1 in
        record {
          quiet = inr (quiet.0, kept.quiet);
          kind = refl;
          declares = λ v r. ap (λ ds. own_declared v r k l ++ ds) (ap (λ roles. declared_in v (reaches_out v k) roles (finished_fields gs)) (same-roles R r k l h) ∙ kept.declares v (reaches_out v k) (role_at r k l (finished_fields fs)));
        }

    fields-kept : {c : ℕ → Site} {s s' : Ledger} {fs gs : OpenFields} → FieldsStep R c s fs s' gs → AreQuietFields fs → KeptIn fs gs
    fields-kept (in_first {fs = fs} h) quiet =
        let kept = field-kept h quiet.0 in
        record { quiet = (kept.quiet, quiet.1); declares = λ v counts roles. ap (λ ds. (if counts zero then ds else []) ++ declared_in v (λ i. counts (suc i)) (λ i. roles (suc i)) (finished_fields fs)) (kept.declares v (roles zero)) }
    fields-kept (in_later {f = f} h) quiet =
        let kept = fields-kept h quiet.1 in
        record { quiet = (quiet.0, kept.quiet); declares = λ v counts roles. ap (λ ds. (if counts zero then declared_by v (roles zero) (finished_field f) else []) ++ ds) (kept.declares v (λ i. counts (suc i)) (λ i. roles (suc i))) }

    field-kept : {n : Site} {s s' : Ledger} {f g : OpenField} → FieldStep R n s f s' g → IsQuietField f → KeptBy f g
    field-kept (in_child h) quiet = let kept = step-kept h quiet in record { quiet = kept.quiet; declares = kept.declares }
    field-kept (in_children h) quiet = let kept = trees-kept h quiet in record { quiet = kept.quiet; declares = kept.declares }
    field-kept (in_body {p = p} {q = q} {t = t} {u = u} e x y h) quiet =
        let kept = step-kept h quiet.1 in
        let after : q ≡ nothing_pending = step-same h ∙ quiet.0 in
        record {
          quiet = (after, kept.quiet);
          declares = λ v r. ap (λ z. declared v r (written_body z (finished u))) after ∙ kept.declares v r ∙ sym (ap (λ z. declared v r (written_body z (finished t))) quiet.0);
        }
    field-kept (in_list e d h) quiet = absurd quiet
    field-kept (in_target e h) quiet = absurd quiet
    field-kept (in_program e h) quiet = absurd quiet
    field-kept (acts_on_list ts us h) quiet = absurd quiet
    field-kept (acts_on_body {n = n} {s = s} {s' = s'} {p = p} t u h) quiet = absurd (only n s s' (at_body p t) (at_node u) h)

    trees-kept : {n : Site} {s s' : Ledger} {ts us : OpenTrees} → TreesStep R n s ts s' us → AreQuietTrees ts → KeptAmong ts us
    trees-kept (in_head {ts = ts} h) quiet = let kept = step-kept h quiet.0 in record { quiet = (kept.quiet, quiet.1); declares = λ v r. ap (λ ds. ds ++ declared_among v r (finished_trees ts)) (kept.declares v r) }
    trees-kept (in_tail {t = t} h) quiet = let kept = trees-kept h quiet.1 in record { quiet = (quiet.0, kept.quiet); declares = λ v r. ap (λ ds. declared v r (finished t) ++ ds) (kept.declares v r) }
    trees-kept (in_flanked h) quiet = absurd quiet
    trees-kept (after_flanked h) quiet = absurd quiet
    trees-kept (flanks {n = n} {s = s} {s' = s'} {bs = bs} {cs = cs} t u h) quiet = absurd (only n s s' (at_node t) (at_beside bs u cs) h)
    trees-kept (acts_on_flanked t us h) quiet = absurd quiet

  expression-kept : (t u : Open) → Kept t u → IsExpression (finished t) → IsExpression (finished u)
  expression-kept t u kept e = record { no_body = ap (λ k. is_var_scope k) kept.kind ∙ e.no_body; no_import = ap (λ k. same_type k ImportDeclaration) kept.kind ∙ e.no_import; declares_nothing = λ v. kept.declares v reads ∙ e.declares_nothing v }

  -- BODIES

  -- what steps keep in an arrow's body that is an expression
  record QuietBody (t : Open) : Type 0 where
    quiet : IsQuiet t
    expression : IsExpression (finished t)

  quiet-after : (n : Site) (s s' : Ledger) (t u : Open) → Step R n s t s' u → QuietBody t → QuietBody u
  quiet-after n s s' t u h k = let kept = step-kept h k.quiet in record { quiet = kept.quiet; expression = expression-kept t u kept k.expression }

  -- of a tree, as it is opened
  pub body-row : (n : Site) → n.role ≡ reads → (o up : Pending) {s s' : Ledger} (t u : Tree) → has_form s-ArrowFunctionBody t ≡ true → is_statement_body t ≡ false → Steps (Step R (site_in_body n up t)) s (opened t) s' (opened u) →
      Steps (FieldStep R n) (ledger (whole_in s) o (this_in s) (top_in s)) (body (pending_in s) (opened t)) (ledger (whole_in s') o (this_in s') (top_in s')) (body (pending_in s') (opened u))
  body-row n role o up t u f e row = body-inside R local n role up t QuietBody (quiet-after (site_in_body n up t)) (λ t k. k.expression) o row (record { quiet = body-is-quiet t f; expression = subst (λ (z : Tree). IsExpression z) (sym (finished-opened t)) (body-expression t f e) })

-- A ROW OF THE WALK acts at a node, takes of the site only what stands above, and leaves what is pending

pub walk-only : (n : Site) (s s' : Ledger) (x y : Spot) → UsingWalkRow n s x s' y → AtNodes x y
walk-only n s s' x y (uses a i k l fs c so here fresh helpers) = tt

pub walk-same : (n : Site) (s s' : Ledger) (x y : Spot) → UsingWalkRow n s x s' y → pending_in s' ≡ pending_in s
walk-same n s s' x y (uses a i k l fs c so here fresh helpers) = refl

pub stands-alike : (a : Standing) (n m : Site) → m.above ≡ n.above → StandsSo a n → StandsSo a m
stands-alike a n m e so = record { part = so.part ∙ ap (λ up. not (is_statement_place up)) (sym e); labelled = so.labelled ∙ ap (λ up. loops.is_labelled up) (sym e) }

pub walk-local : IsLocal (λ s. no_names) UsingWalkRow
walk-local n m s s' x y alike (uses a i k l fs c so here fresh helpers) = uses a i k l fs c (stands-alike a n m alike.above so) here fresh helpers

-- a function whose fields become these declares around it what it did

record SameOutside (bodies : ℕ → Bool) (fs gs : Fields) : Type 0 where
  quiet : AreQuietFields (opened_fields bodies fs) → AreQuietFields (opened_fields bodies gs)
  shape : (i : ℕ) → is_some (child_at i gs) ≡ is_some (child_at i fs)
  declares : (v : Bool) (counts : ℕ → Bool) (roles : ℕ → Role) → declared_in v counts roles gs ≡ declared_in v counts roles fs

outside-kept : (k : AstType) (l : Label) (fs gs : Fields) → SameOutside (is_body k) fs gs → IsQuiet (opened (node k l fs)) → Kept (opened (node k l fs)) (opened (node k l gs))
outside-kept k l fs gs same quiet = record { quiet = still quiet; kind = refl; declares = λ v r. ap (λ z. declared v r z) (finished-opened (node k l gs)) ∙ around v r ∙ sym (ap (λ z. declared v r z) (finished-opened (node k l fs))) }
  where
    still : IsQuiet (opened (node k l fs)) → IsQuiet (opened (node k l gs))
    still (inl e) = inl e
    still (inr q) = inr (q.0, same.quiet q.1)

    around : (v : Bool) (r : Role) → declared v r (node k l gs) ≡ declared v r (node k l fs)
    around v r = ap (λ ds. own_declared v r k l ++ ds) (ap (λ roles. declared_in v (reaches_out v k) roles gs) (role-same r k l fs gs same.shape) ∙ same.declares v (reaches_out v k) (role_at r k l fs))

module _ (m : Makes) (i : ℕ) where
  body-declares : (ps : Trees) (b : Tree) → uses_in_body ps b ≡ true → (v : Bool) (r : Role) → declared v r (used_body m i b) ≡ declared v r b
  body-declares ps (node FunctionBody l (many ds then statements ts then done)) e v r =
      let h : Tree = node FunctionBody l (many ds then statements ts then done) in
      scope-declares v r FunctionBody l (many ds then statements ts then done) (many ds then statements (tried m i h (constants m i ts) before empty) then done) refl
  body-declares ps _ e v r = absurd (cc e)

  body-field-quiet : (inside : Bool) (ps : Trees) (b : Tree) → uses_in_body ps b ≡ true → IsQuietField (opened_field inside (one (used_body m i b)))
  body-field-quiet true ps (node FunctionBody l (many ds then statements ts then done)) e = inl refl
  body-field-quiet false ps (node FunctionBody l (many ds then statements ts then done)) e = inl refl
  body-field-quiet _ ps _ e = absurd (cc e)

  function-outside : (bodies : ℕ → Bool) (fs : Fields) → uses_in_function fs ≡ true → SameOutside bodies fs (used_function m i fs)
  function-outside bodies (f then many ps then one b then done) e = record {
    quiet = λ q. (q.0, (q.1.0, (body-field-quiet (bodies 2) ps b e, tt)));
    shape = at;
    declares = λ v counts roles j. (if counts 0 then declared_by v (roles 0) f else []) ++ ((if counts 1 then declared_among v (roles 1) ps else []) ++ ((if counts 2 then body-declares ps b e v (roles 2) j else []) ++ []));
  }
    where
      at : (j : ℕ) → is_some (child_at j (f then many ps then one (used_body m i b) then done)) ≡ is_some (child_at j (f then many ps then one b then done))
      at zero = refl
      at (suc zero) = refl
      at (suc (suc zero)) = refl
      at (suc (suc (suc j))) = refl
  function-outside bodies _ e = absurd (cc e)

  arrow-outside : (bodies : ℕ → Bool) (fs : Fields) → uses_in_arrow fs ≡ true → SameOutside bodies fs (used_arrow m i fs)
  arrow-outside bodies (many ps then one b then done) e = record {
    quiet = λ q. (q.0, (body-field-quiet (bodies 1) ps b e, tt));
    shape = at;
    declares = λ v counts roles j. (if counts 0 then declared_among v (roles 0) ps else []) ++ ((if counts 1 then body-declares ps b e v (roles 1) j else []) ++ []);
  }
    where
      at : (j : ℕ) → is_some (child_at j (many ps then one (used_body m i b) then done)) ≡ is_some (child_at j (many ps then one b then done))
      at zero = refl
      at (suc zero) = refl
      at (suc (suc j)) = refl
  arrow-outside bodies _ e = absurd (cc e)

-- a static block declares nothing around it, whatever stands in it
static-kept : (m : Makes) (i : ℕ) (l : Label) (fs : Fields) → uses_in_static_block fs ≡ true → Kept (opened (node StaticBlock l fs)) (opened (used_static_block m i l fs))
static-kept m i l (statements ts then done) e =
    let t : Tree = node StaticBlock l (statements ts then done) in
    let us : Trees = tried m i t (constants m i ts) before empty in
    record {
      quiet = inl refl;
      kind = refl;
      declares = λ v r. ap (λ z. declared v r z) (finished-opened (node StaticBlock l (statements us then done))) ∙ scope-declares v r StaticBlock l (statements ts then done) (statements us then done) refl ∙ sym (ap (λ z. declared v r z) (finished-opened t));
    }
static-kept m i l _ e = absurd (cc e)

-- where it is a statement at which `using` is lowered, the tree isn't quiet
statement-kept : (k : AstType) (l : Label) (fs : Fields) (u : Open) → is_var_scope k ≡ false → is_lowered k ≡ true → IsQuiet (opened (node k l fs)) → Kept (opened (node k l fs)) u
statement-kept k l fs u e d (inl q) = absurd (true≢false (sym q ∙ e))
statement-kept k l fs u e d (inr q) = absurd (true≢false (sym d ∙ q.0))

node-kept : (m : Makes) (a : Standing) (i : ℕ) (k : AstType) (l : Label) (fs : Fields) → uses_here a k l fs ≡ true → IsQuiet (opened (node k l fs)) → Kept (opened (node k l fs)) (opened (used_node m a i k l fs))
node-kept m a i BlockStatement l fs e quiet = statement-kept BlockStatement l fs _ refl refl quiet
node-kept m a i SwitchStatement l fs e quiet = statement-kept SwitchStatement l fs _ refl refl quiet
node-kept m a i ForStatement l fs e quiet = statement-kept ForStatement l fs _ refl refl quiet
node-kept m a i LabeledStatement l fs e quiet = statement-kept LabeledStatement l fs _ refl refl quiet
node-kept m a i FunctionDeclaration l fs e quiet = outside-kept FunctionDeclaration l fs (used_function m i fs) (function-outside m i (is_body FunctionDeclaration) fs e) quiet
node-kept m a i FunctionExpression l fs e quiet = outside-kept FunctionExpression l fs (used_function m i fs) (function-outside m i (is_body FunctionExpression) fs e) quiet
node-kept m a i ArrowFunctionExpression l fs e quiet = outside-kept ArrowFunctionExpression l fs (used_arrow m i fs) (arrow-outside m i (is_body ArrowFunctionExpression) fs e) quiet
node-kept m a i StaticBlock l fs e quiet = static-kept m i l fs e
node-kept m a i k l fs e quiet = absurd (cc e)

pub walk-kept : (n : Site) (s s' : Ledger) (t u : Tree) → UsingWalkRow n s (at_node t) s' (at_node u) → IsQuiet (opened t) → Kept (opened t) (opened u)
walk-kept n s s' t u (uses {w = w} a i k l fs c so here fresh helpers) quiet = node-kept (making w c) a i k l fs here quiet
