-- Steps lead from a program that has form to what it becomes where parts of calls give way to names: at each node itself first, and then in its
-- fields.
use Rattle.std.proofs.Common.{◌≡◌, ℕ, zero, suc, refl, sym, subst}
use Rattle.std.specs.Prelude.{Bool, true, false, ◌&&◌, Some, None}
use Rattle.std.proofs.lemmas.Bool.{and_parts}
use Rattle.es_tree.specs.Attributes.{child_entries}
use Rattle.es_tree.specs.Names.{flag_at}
use Rattle.es_tree.specs.HasForm.{fields_form, has_form, trees_form}
use Rattle.es_tree.specs.Table.{rest_sort}
use Rattle.es_tree.specs.Tree.{Tree, node, Label, Fields, done, ◌then◌, Field, missing, one, many, statements, Trees, empty, ◌before◌}
use Rattle.es_tree.specs.declared.ast_type.AstType.{AstType}
use Rattle.es_tree.specs.declared.ast_type.AstType.TheVariants.{ArrowFunctionExpression, CallExpression, FunctionBody}
use Rattle.es_tree.specs.declared.helper.Helper.{Helper}
use Rattle.es_tree.specs.declared.table.Sort.{Sort}
use Rattle.es_tree.specs.declared.table.Sort.TheVariants.{Argument as s-Argument, ArrowFunctionBody as s-ArrowFunctionBody, Expression as s-Expression, Pattern as s-Pattern, Program as s-Program}
use Rattle.es_tree.proofs.NodeForm.{NodeForm}
use Rattle.es_resolution.specs.Declarations.{Bound}
use Rattle.es_resolution.proofs.AllForms.{All, AllAmong, AllBy, AllIn, all-tree}
use Rattle.es_semantic.specs.RolesOf.{reads}
use Rattle.es_changes.proofs.Expressions.{body-formed, law_expression_proof}
use Rattle.es_changes.proofs.FieldParts.{body-reads}
use Rattle.es_steps.specs.Laws.{nothing_beside}
use Rattle.es_steps.specs.Nodes.{identifier}
use Rattle.es_steps.specs.Open.{Open, OpenField, OpenFields, OpenTrees, body, child, children, ends, finished, finished_fields, is_body, list, no_additions, nothing_pending, open_node, opened, opened_field, opened_fields, opened_trees, ◌and◌, ◌next◌}
use Rattle.es_steps.specs.Steps.{FieldStep, FieldsStep, Ledger, Site, Step, Steps, TreesStep, Whole, is_program_list, is_target, ledger, site_in, site_in_body, the_program}
use Rattle.es_steps.specs.Steps.FieldStep.{in_body, in_child, in_children, in_list, in_program, in_target}
use Rattle.es_steps.specs.Steps.FieldsStep.{in_first, in_later}
use Rattle.es_steps.specs.Steps.Step.{acts, inside}
use Rattle.es_steps.specs.Steps.Steps.{goes, stays}
use Rattle.es_steps.specs.Steps.TreesStep.{in_head, in_tail}
use Rattle.es_steps.proofs.FormOpen.{IsProper, opened-proper}
use Rattle.es_steps.proofs.FormSteps.{formed-after}
use Rattle.es_steps.proofs.Opened.{finished-opened}
use Rattle.es_helper_calls.specs.CallRows.{CallRow}
use Rattle.es_helper_calls.specs.CallRows.CallRow.{calls, lists, passes}
use Rattle.es_helper_calls.specs.HelperCalls.{handed_on, helper_of}
use Rattle.es_helper_calls.specs.Laws.{IsNamed}
use Rattle.es_helper_calls.specs.TextLists.{is_text_list}
use Rattle.es_helper_calls.proofs.CalledTrees.{Calls, CallsAll, CallsBy, CallsIn}
use Rattle.es_helper_calls.proofs.CalledTrees.Calls.{becomes}
use Rattle.es_helper_calls.proofs.CalledTrees.CallsAll.{next as tree_next, none as no_tree}
use Rattle.es_helper_calls.proofs.CalledTrees.CallsBy.{at_many, at_none, at_one, at_statements}
use Rattle.es_helper_calls.proofs.CalledTrees.CallsHere.{calls as is_called, lists as is_listed, passes as is_passed, stays as is_left}
use Rattle.es_helper_calls.proofs.CalledTrees.CallsIn.{ends as no_field, goes as field_next}
use Rattle.es_helper_calls.proofs.CallRules.{call-form}

-- ROWS: steps in a row, each of which may be taken wherever a node stands and whatever is known there

data Rows {X : Type 0} (S : X → X → Type 0) : X → X → Type 0 where
  none : {x : X} → Rows S x x
  more : {x y z : X} → S x y → Rows S y z → Rows S x z

rows-trans : {X : Type 0} {S : X → X → Type 0} {x y z : X} → Rows S x y → Rows S y z → Rows S x z
rows-trans none b = b
rows-trans (more h r) b = more h (rows-trans r b)

rows-map : {X Y : Type 0} {S : X → X → Type 0} {T : Y → Y → Type 0} (f : X → Y) → ((x y : X) → S x y → T (f x) (f y)) → {x y : X} → Rows S x y → Rows T (f x) (f y)
rows-map f lift none = none
rows-map f lift (more h r) = more (lift _ _ h) (rows-map f lift r)

abbrev AnyStep : Open → Open → Type 0
AnyStep t u = (n : Site) (s : Ledger) → Step CallRow n s t s u

-- the body of an arrow reads
abbrev AnyFields : (ℕ → Bool) → OpenFields → OpenFields → Type 0
AnyFields bodies fs gs = (at : ℕ → Site) (s : Ledger) → ((i : ℕ) → bodies i ≡ true → (at i).role ≡ reads) → FieldsStep CallRow at s fs s gs

abbrev AnyField : Bool → OpenField → OpenField → Type 0
AnyField b f g = (n : Site) (s : Ledger) → (b ≡ true → n.role ≡ reads) → FieldStep CallRow n s f s g

abbrev AnyTrees : OpenTrees → OpenTrees → Type 0
AnyTrees ts us = (n : Site) (s : Ledger) → TreesStep CallRow n s ts s us

-- NODES AND LISTS

node-rows : (k : AstType) (l : Label) {fs gs : OpenFields} → Rows (AnyFields (is_body k)) fs gs → Rows AnyStep (open_node k l fs) (open_node k l gs)
node-rows k l = rows-map (λ fs. open_node k l fs) (λ fs gs h n s. inside (h (site_in n k l fs) s (λ i e. body-reads n.role k l (finished_fields fs) i e)))

child-rows : (b : Bool) {t u : Open} → Rows AnyStep t u → Rows (AnyField b) (child t) (child u)
child-rows b = rows-map (λ t. child t) (λ t u h n s e. in_child (h n s))

children-rows : (b : Bool) {ts us : OpenTrees} → Rows AnyTrees ts us → Rows (AnyField b) (children ts) (children us)
children-rows b = rows-map (λ ts. children ts) (λ ts us h n s e. in_children (h n s))

-- a list, whatever list it is
list-taken : (ts us : OpenTrees) → AnyTrees ts us → (n : Site) (s : Ledger) (target whole : Bool) → is_target n.above ≡ target → is_program_list n.above ≡ whole → FieldStep CallRow n s (list nothing_pending None no_additions ts) s (list nothing_pending None no_additions us)
list-taken ts us h n (ledger w o x a) true whole e d = in_target e (h n (ledger w nothing_pending None a))
list-taken ts us h n (ledger w o x a) false true e d = in_program d (h n (ledger w nothing_pending None no_additions))
list-taken ts us h n (ledger w o x a) false false e d = in_list e d (h n (ledger w nothing_pending x a))

list-rows : (b : Bool) {ts us : OpenTrees} → Rows AnyTrees ts us → Rows (AnyField b) (list nothing_pending None no_additions ts) (list nothing_pending None no_additions us)
list-rows b = rows-map (λ ts. list nothing_pending None no_additions ts) (λ ts us h n s e. list-taken ts us h n s (is_target n.above) (is_program_list n.above) refl refl)

-- WHAT IS KNOWN of each node of a program that has form

pub record HasForm (k : AstType) (l : Label) (fs : Fields) : Type 0 where
  pub sort : Sort
  pub form : NodeForm sort k l fs

pub all-formed : (s : Sort) (t : Tree) → has_form s t ≡ true → All HasForm t
all-formed = all-tree HasForm (λ s k l fs f. record { sort = s; form = f })

-- the bodies of arrows have form
abbrev FormedBody : Bool → Field → Type 0
FormedBody true (one t) = has_form s-ArrowFunctionBody t ≡ true
FormedBody b f = Unit {0}

abbrev FormedBodies : (ℕ → Bool) → Fields → Type 0
FormedBodies bodies done = Unit {0}
FormedBodies bodies (f then fs) = FormedBody (bodies zero) f × FormedBodies (λ i. bodies (suc i)) fs

no-body : (b : Bool) (f : Field) → b ≡ false → FormedBody b f
no-body true f e = absurd (cc e)
no-body false f e = tt

no-bodies : (bodies : ℕ → Bool) (fs : Fields) → ((i : ℕ) → bodies i ≡ false) → FormedBodies bodies fs
no-bodies bodies done never = tt
no-bodies bodies (f then fs) never = (no-body (bodies zero) f (never zero), no-bodies (λ i. bodies (suc i)) fs (λ i. never (suc i)))

arrow-bodies : (l : Label) (fs : Fields) → fields_form ArrowFunctionExpression l (child_entries ArrowFunctionExpression) fs ≡ true → FormedBodies (is_body ArrowFunctionExpression) fs
arrow-bodies l (many ps then (one b then fs)) h =
    let rest = (and_parts (trees_form s-Pattern (rest_sort s-Pattern) ps) _ h).1 in
    (tt, ((and_parts (has_form s-ArrowFunctionBody b) _ rest).0, no-bodies (λ i. is_body ArrowFunctionExpression (suc (suc i))) fs (λ i. refl)))
arrow-bodies l (many ps then (missing then fs)) h = absurd (cc (and_parts (trees_form s-Pattern (rest_sort s-Pattern) ps) _ h).1)
arrow-bodies l (many ps then (many ts then fs)) h = absurd (cc (and_parts (trees_form s-Pattern (rest_sort s-Pattern) ps) _ h).1)
arrow-bodies l (many ps then (statements ts then fs)) h = absurd (cc (and_parts (trees_form s-Pattern (rest_sort s-Pattern) ps) _ h).1)
arrow-bodies l (many ps then done) h = absurd (cc (and_parts (trees_form s-Pattern (rest_sort s-Pattern) ps) _ h).1)
arrow-bodies l (missing then fs) h = absurd (cc h)
arrow-bodies l (one t then fs) h = absurd (cc h)
arrow-bodies l (statements ts then fs) h = absurd (cc h)
arrow-bodies l done h = absurd (cc h)

formed-bodies : (s : Sort) (k : AstType) (l : Label) (fs : Fields) → NodeForm s k l fs → FormedBodies (is_body k) fs
formed-bodies s ArrowFunctionExpression l fs f = arrow-bodies l fs f.children
formed-bodies s k l fs f = no-bodies (is_body k) fs (λ i. refl)

-- a call has one list of arguments
data IsArguments : Fields → Type 0 where
  arguments : (ts : Trees) → IsArguments (many ts then done)

arguments-shape : (l : Label) (f : Tree) (fs : Fields) → fields_form CallExpression l (child_entries CallExpression) (one f then fs) ≡ true → IsArguments fs
arguments-shape l f (many ts then done) h = arguments ts
arguments-shape l f (many ts then (g then gs)) h = absurd (cc (and_parts (trees_form s-Argument s-Argument ts) false (and_parts (has_form s-Expression f) (trees_form s-Argument s-Argument ts && false) h).1).1)
arguments-shape l f (missing then fs) h = absurd (cc (and_parts (has_form s-Expression f) _ h).1)
arguments-shape l f (one t then fs) h = absurd (cc (and_parts (has_form s-Expression f) _ h).1)
arguments-shape l f (statements ts then fs) h = absurd (cc (and_parts (has_form s-Expression f) _ h).1)
arguments-shape l f done h = absurd (cc (and_parts (has_form s-Expression f) _ h).1)

-- IN FIELDS

in-first : (bodies : ℕ → Bool) {f g : OpenField} (fs : OpenFields) → Rows (AnyField (bodies zero)) f g → Rows (AnyFields bodies) (f and fs) (g and fs)
in-first bodies fs = rows-map (λ f. f and fs) (λ x y h at s e. in_first (h (at zero) s (e zero)))

in-later : (bodies : ℕ → Bool) (f : OpenField) {fs gs : OpenFields} → Rows (AnyFields (λ i. bodies (suc i))) fs gs → Rows (AnyFields bodies) (f and fs) (f and gs)
in-later bodies f = rows-map (λ fs. f and fs) (λ x y h at s e. in_later (h (λ i. at (suc i)) s (λ i. e (suc i))))

in-head : (ts : OpenTrees) {t u : Open} → Rows AnyStep t u → Rows AnyTrees (t next ts) (u next ts)
in-head ts = rows-map (λ t. t next ts) (λ x y h n s. in_head (h n s))

in-tail : (t : Open) {ts us : OpenTrees} → Rows AnyTrees ts us → Rows AnyTrees (t next ts) (t next us)
in-tail t = rows-map (λ ts. t next ts) (λ x y h n s. in_tail (h n s))

-- THE NODE ITSELF

call-step : (l : Label) (f : Tree) (h : Helper) (b : Bound) → flag_at 0 l.flags ≡ false → helper_of f ≡ Some h → IsNamed b → (fs : Fields) → IsArguments fs → AnyStep (opened (node CallExpression l (one f then fs))) (opened (node CallExpression l (one (identifier b) then fs)))
call-step l f h b mark it named _ (arguments ts) = λ n s. acts (node CallExpression l (one f then many ts then done)) (node CallExpression l (one (identifier b) then many ts then done)) (calls b mark it named)

pass-step : (l : Label) (f t : Tree) (h : Helper) (b : Bound) → flag_at 0 l.flags ≡ false → helper_of f ≡ None → handed_on (helper_of t) ≡ Some h → IsNamed b → (fs : Fields) → IsArguments (many (t before empty) then fs) →
    AnyStep (opened (node CallExpression l (one f then (many (t before empty) then fs)))) (opened (node CallExpression l (one f then (many (identifier b before empty) then fs))))
pass-step l f t h b mark other it named _ (arguments _) = λ n s. acts (node CallExpression l (one f then many (t before empty) then done)) (node CallExpression l (one f then many (identifier b before empty) then done)) (passes b mark other it named)

list-step : (l : Label) (f s ks : Tree) (b : Bound) → is_text_list ks ≡ true → IsNamed b → AnyStep (opened (node CallExpression l (one f then (many (s before (ks before empty)) then done)))) (opened (node CallExpression l (one f then (many (s before (identifier b before empty)) then done))))
list-step l f s ks b texts named = λ n st. acts (node CallExpression l (one f then (many (s before (ks before empty)) then done))) (node CallExpression l (one f then (many (s before (identifier b before empty)) then done))) (lists b texts named)

-- BODIES of arrows that are expressions

module _ (w : Whole) (P : Tree → Bound → Type 0) (named : (f : Tree) (b : Bound) → P f b → IsNamed b) where
  record Formed (t : Open) : Type 0 where
    form : has_form s-Expression (finished t) ≡ true
    proper : IsProper t

  formed-step : (t u : Open) → AnyStep t u → Formed t → Formed u
  formed-step t u h f = let r = formed-after CallRow call-form (h the_program (nothing_beside w)) s-Expression (λ e. absurd (cc e)) f.proper f.form in record { form = r.formed; proper = r.proper }

  body-step : (t u : Open) → AnyStep t u → Formed t → Formed u → AnyField true (body nothing_pending t) (body nothing_pending u)
  body-step t u h f g n (ledger v o x a) e = in_body (e refl) (law_expression_proof (finished t) f.form) (law_expression_proof (finished u) g.form) (h (site_in_body n nothing_pending (finished t)) (ledger v nothing_pending x a))

  body-rows : {t u : Open} → Rows AnyStep t u → Formed t → Rows (AnyField true) (body nothing_pending t) (body nothing_pending u)
  body-rows none f = none
  body-rows (more {x = t} {y = u} h r) f = let g = formed-step t u h f in more (body-step t u h f g) (body-rows r g)

  body-field : {t u : Tree} → Calls P t u → has_form s-ArrowFunctionBody t ≡ true → Rows AnyStep (opened t) (opened u) → Rows (AnyField true) (opened_field true (one t)) (opened_field true (one u))
  body-field (becomes {k = FunctionBody} h) f r = child-rows true r
  body-field (becomes {k = k} {l = l} {fs = fs} h) f r = body-rows r (record { form = subst (λ (x : Tree). has_form s-Expression x ≡ true) (sym (finished-opened (node k l fs))) (body-formed (node k l fs) f refl); proper = opened-proper (node k l fs) })

  mutual
    tree-rows : {t u : Tree} → Calls P t u → All HasForm t → Rows AnyStep (opened t) (opened u)
    tree-rows (becomes {k = k} {l = l} {fs = fs} (is_left h)) q = node-rows k l (fields-rows (is_body k) h q.1 (formed-bodies q.0.sort k l fs q.0.form))
    tree-rows (becomes {l = l} (is_called {f = f} {fs = fs} {h = x} b p mark it h)) q =
        more (call-step l f x b mark it (named f b p) fs (arguments-shape l f fs q.0.form.children))
        (node-rows CallExpression l (in-later (is_body CallExpression) (child (opened (identifier b))) (fields-rows (λ i. is_body CallExpression (suc i)) h q.1.1 (no-bodies (λ i. is_body CallExpression (suc i)) fs (λ i. refl)))))
    tree-rows (becomes {l = l} (is_passed {f = f} {g = g} {t = t} {fs = fs} {h = x} b p mark other it k h)) q =
        let argument = children (opened_trees (identifier b before empty)) in
        more (pass-step l f t x b mark other it (named t b p) fs (arguments-shape l f (many (t before empty) then fs) q.0.form.children))
        (node-rows CallExpression l (rows-trans (in-first (is_body CallExpression) (argument and opened_fields (λ i. is_body CallExpression (suc (suc i))) fs) (child-rows false (tree-rows k q.1.0)))
        (in-later (is_body CallExpression) (child (opened g)) (in-later (λ i. is_body CallExpression (suc i)) argument (fields-rows (λ i. is_body CallExpression (suc (suc i))) h q.1.1.1 (no-bodies (λ i. is_body CallExpression (suc (suc i))) fs (λ i. refl)))))))
    tree-rows (becomes {l = l} (is_listed {f = f} {g = g} {s = s} {ks = ks} b p texts k m)) q =
        let later = opened_trees (identifier b before empty) in
        more (list-step l f s ks b texts (named ks b p))
        (node-rows CallExpression l (rows-trans (in-first (is_body CallExpression) (children (opened s next later) and ends) (child-rows false (tree-rows k q.1.0)))
        (in-later (is_body CallExpression) (child (opened g)) (in-first (λ i. is_body CallExpression (suc i)) ends (children-rows false (in-head later (tree-rows m q.1.1.0.0)))))))

    fields-rows : (bodies : ℕ → Bool) {fs gs : Fields} → CallsIn P fs gs → AllIn HasForm fs → FormedBodies bodies fs → Rows (AnyFields bodies) (opened_fields bodies fs) (opened_fields bodies gs)
    fields-rows bodies no_field q f = none
    fields-rows bodies (field_next {g = g} {fs = fs} k h) q f =
        rows-trans (in-first bodies (opened_fields (λ i. bodies (suc i)) fs) (field-rows (bodies zero) k q.0 f.0)) (in-later bodies (opened_field (bodies zero) g) (fields-rows (λ i. bodies (suc i)) h q.1 f.1))

    field-rows : (b : Bool) {f g : Field} → CallsBy P f g → AllBy HasForm f → FormedBody b f → Rows (AnyField b) (opened_field b f) (opened_field b g)
    field-rows true at_none q f = none
    field-rows false at_none q f = none
    field-rows true (at_one k) q f = body-field k f (tree-rows k q)
    field-rows false (at_one k) q f = child-rows false (tree-rows k q)
    field-rows true (at_many k) q f = children-rows true (trees-rows k q)
    field-rows false (at_many k) q f = children-rows false (trees-rows k q)
    field-rows true (at_statements k) q f = list-rows true (trees-rows k q)
    field-rows false (at_statements k) q f = list-rows false (trees-rows k q)

    trees-rows : {ts us : Trees} → CallsAll P ts us → AllAmong HasForm ts → Rows AnyTrees (opened_trees ts) (opened_trees us)
    trees-rows no_tree q = none
    trees-rows (tree_next {u = u} {ts = ts} k h) q = rows-trans (in-head (opened_trees ts) (tree-rows k q.0)) (in-tail (opened u) (trees-rows h q.1))

  -- A PROGRAM

  to-steps : {t u : Open} → Rows AnyStep t u → Steps (Step CallRow the_program) (nothing_beside w) t (nothing_beside w) u
  to-steps none = stays
  to-steps (more h r) = goes (h the_program (nothing_beside w)) (to-steps r)

  pub call-steps : (p q : Tree) → Calls P p q → has_form s-Program p ≡ true → Steps (Step CallRow the_program) (nothing_beside w) (opened p) (nothing_beside w) (opened q)
  call-steps p q h f = to-steps (tree-rows h (all-formed s-Program p f))
