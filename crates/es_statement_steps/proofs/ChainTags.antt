-- Where no tag of a template is an optional chain, none is one after a step of rules that make no chains.
use Rattle.std.proofs.Common.{◌≡◌, ℕ, zero, suc, refl, sym, ap, subst, ◌∙◌, List, [], ◌∷◌}
use Rattle.std.proofs.lemmas.Bool.{and_parts, and_from, not-true, not_from_false}
use Rattle.std.specs.Prelude.{Bool, true, false, not, codes, map}
use Rattle.es_tree.specs.Bare.{bare_label, bare_fields}
use Rattle.es_tree.specs.Constructs.{field_at}
use Rattle.es_tree.specs.Tree.{Tree, node, Label, Fields, done, ◌then◌, Field, missing, one, many, statements, Trees, empty, kind_of, trees}
use Rattle.es_tree.specs.Walks.{all_nodes, all_in_fields, all_in_trees}
use Rattle.es_tree.specs.declared.ast_type.AstType.{AstType}
use Rattle.es_tree.specs.declared.ast_type.AstType.TheVariants.{CallExpression, ObjectExpression, ParenthesizedExpression, TaggedTemplateExpression}
use Rattle.es_runs.specs.OptionalChaining.{has_tests, is_chain_kind, where_short}
use Rattle.es_chain_tags.specs.ChainTags.{is_chain_below}
use Rattle.es_resolution.specs.Declarations.{Bound}
use Rattle.es_resolution.specs.Laws.{source}
use Rattle.es_steps.specs.Exponentiation.{ExponentiationRule, assigned_power}
use Rattle.es_steps.specs.Exponentiation.ExponentiationRule.{power, power_assignment}
use Rattle.es_steps.specs.LogicalAssignment.{LogicalAssignmentRule}
use Rattle.es_steps.specs.LogicalAssignment.LogicalAssignmentRule.{to_name, to_static_member, to_computed_member}
use Rattle.es_steps.specs.Nodes.{declarator, placed}
use Rattle.es_steps.specs.NullishCoalescing.{NullishCoalescingRule}
use Rattle.es_steps.specs.NullishCoalescing.NullishCoalescingRule.{reading_again, with_temporary}
use Rattle.es_steps.specs.ObjectSpread.{SpreadRule}
use Rattle.es_steps.specs.Open.{Open, OpenField, OpenFields, OpenTrees, declaration, finished, finished_field, finished_fields, finished_trees, is_body, pending_statements, whole_list}
use Rattle.es_steps.specs.OptionalCatch.{CatchRule}
use Rattle.es_steps.specs.OptionalCatch.CatchRule.{catches}
use Rattle.es_steps.specs.OptionalChaining.{OptionalChainingRule}
use Rattle.es_steps.specs.OptionalChaining.OptionalChainingRule.{by_tests, as_callee, in_delete}
use Rattle.es_steps.specs.Steps.{FieldStep, FieldsStep, Ledger, Site, Spot, Step, TreesStep, Whole}
use Rattle.es_steps.specs.Steps.Spot.{at_node}
use Rattle.es_steps.specs.Steps.Step.{acts, inside}
use Rattle.es_steps.specs.Steps.FieldsStep.{in_first, in_later}
use Rattle.es_steps.specs.Steps.FieldStep.{acts_on_body, acts_on_list, in_body, in_child, in_children, in_list, in_program, in_target}
use Rattle.es_steps.specs.Steps.TreesStep.{acts_on_flanked, after_flanked, flanks, in_flanked, in_head, in_tail}
use Rattle.es_steps.proofs.FormOpen.{AreProperFields, AreProperTrees, IsProper, IsProperField}
use Rattle.es_steps.proofs.FormRules.{FormLawful}
use Rattle.es_steps.proofs.Opened.{finished-opened, finished-trees}
use Rattle.es_reached.proofs.BareNodes.{inner-kind-bare}
use Rattle.es_statement_runs.specs.Programs.{is_statement_node}
use Rattle.es_statement_steps.specs.Laws.{no_chain_tag}
use Rattle.es_statement_steps.proofs.Below.{Below, BelowField, BelowTrees, nodes_below}
use Rattle.es_statement_steps.proofs.Chainings.{is_chain}
use Rattle.es_statement_steps.proofs.MadeOf.{PassesMade, any_name, any_object, assigning-of, chaining-of, coalescing-of, is_made_kind, passes-any, raising-of}
use Rattle.es_statement_steps.proofs.BareTests.{source-passes}
use Rattle.es_statement_steps.proofs.SpreadParts.{is_copy, spread-copy, spread-so}
use Rattle.es_statement_steps.proofs.StepMoves.{below-after}
use Rattle.es_statement_steps.proofs.Tamed.{Class, no-arrow, node-kind}
use Rattle.es_statement_steps.proofs.WholeLists.{fields-pass, whole-below}

-- THE TEST

abbrev pub Untagged : Tree → Type 0
Untagged t = all_nodes no_chain_tag t ≡ true

-- what is no chain gives what is none
abbrev StaysNone : Bool → Bool → Type 0
StaysNone a b = a ≡ false → b ≡ false

-- it is asked of the first field of a tag's node, and of parentheses
tag-test : (k : AstType) (l : Label) (fs gs : Fields) → StaysNone (is_chain_below (field_at 0 fs)) (is_chain_below (field_at 0 gs)) → no_chain_tag k l fs ≡ true → no_chain_tag k l gs ≡ true
tag-test TaggedTemplateExpression l fs gs r h = not_from_false (is_chain_below (field_at 0 gs)) (r (not-true (is_chain_below (field_at 0 fs)) h))
tag-test _ l fs gs r h = refl

in-parens : (l : Label) (fs : Fields) → is_chain (node ParenthesizedExpression l fs) ≡ is_chain_below (field_at 0 fs)
in-parens l done = refl
in-parens l (missing then fs) = refl
in-parens l (one t then fs) = refl
in-parens l (many ts then fs) = refl
in-parens l (statements ts then fs) = refl

chain-test : (k : AstType) (l : Label) (fs gs : Fields) → StaysNone (is_chain_below (field_at 0 fs)) (is_chain_below (field_at 0 gs)) → StaysNone (is_chain (node k l fs)) (is_chain (node k l gs))
chain-test ParenthesizedExpression l fs gs r h = in-parens l gs ∙ r (sym (in-parens l fs) ∙ h)
chain-test _ l fs gs r h = h

-- what it says of a tag, and of what stands in a node
pub untagged-tag : (l : Label) (fs : Fields) → Untagged (node TaggedTemplateExpression l fs) → is_chain_below (field_at 0 fs) ≡ false
untagged-tag l fs h = not-true (is_chain_below (field_at 0 fs)) (and_parts (no_chain_tag TaggedTemplateExpression l fs) (all_in_fields no_chain_tag fs) h).0

pub untagged-inside : (k : AstType) (l : Label) (fs : Fields) → Untagged (node k l fs) → Below (λ i. Untagged) fs
untagged-inside k l fs h = nodes_below no_chain_tag fs (and_parts (no_chain_tag k l fs) (all_in_fields no_chain_tag fs) h).1

-- LISTS with temporaries

untagged-declarators : (bs : List Bound) → all_in_trees no_chain_tag (trees (map declarator bs)) ≡ true
untagged-declarators [] = refl
untagged-declarators (b ∷ bs) = untagged-declarators bs

untagged-vars : (bs : List Bound) → BelowTrees Untagged (declaration (codes "var") (map declarator bs) empty)
untagged-vars [] = tt
untagged-vars (b ∷ bs) = (rw (untagged-declarators bs) refl, tt)

-- STEPS of a rule whose results are no chains, and in whose results no tag is one

abbrev pub Unchained : Tree → Tree → Type 0
Unchained t u = Untagged t → Untagged u × (is_chain u ≡ false)

record Kept (t u : Tree) : Type 0 where
  untagged : Untagged u
  chain : StaysNone (is_chain t) (is_chain u)

record KeptIn (fs gs : Fields) : Type 0 where
  below : Below (λ i. Untagged) gs
  first : StaysNone (is_chain_below (field_at 0 fs)) (is_chain_below (field_at 0 gs))

record KeptBy (f g : Field) : Type 0 where
  below : BelowField Untagged g
  chain : StaysNone (is_chain_below f) (is_chain_below g)

module _ (Q : Site → Ledger → Spot → Ledger → Spot → Type 0) (law : FormLawful Q) (rule : (n : Site) (s s' : Ledger) (t u : Tree) → Q n s (at_node t) s' (at_node u) → Unchained t u) where
  mutual
    kept : {n : Site} {s s' : Ledger} {t u : Open} → Step Q n s t s' u → IsProper t → IsProper u → Class (finished t) → Untagged (finished t) → Kept (finished t) (finished u)
    kept (acts {n = n} {s = s} {s' = s'} t u h) proper after class untagged =
        let r = rule n s s' t u h (subst (λ (x : Tree). Untagged x) (finished-opened t) untagged) in
        record { untagged = subst (λ (x : Tree). Untagged x) (sym (finished-opened u)) r.0; chain = λ e. ap is_chain (finished-opened u) ∙ r.1 }
    kept (inside {n = n} {k = k} {l = l} {fs = fs} {gs = gs} h) proper after class untagged =
        let d = and_parts (is_statement_node k l (finished_fields fs)) (all_in_fields is_statement_node (finished_fields fs)) class in
        let g = and_parts (no_chain_tag k l (finished_fields fs)) (all_in_fields no_chain_tag (finished_fields fs)) untagged in
        let r = kept-in h (is_body k) proper after (λ i. no-arrow k i (node-kind k l (finished_fields fs) d.0)) (nodes_below is_statement_node (finished_fields fs) d.1) (nodes_below no_chain_tag (finished_fields fs) g.1) in
        record {
          untagged = and_from (no_chain_tag k l (finished_fields gs)) (all_in_fields no_chain_tag (finished_fields gs)) (tag-test k l (finished_fields fs) (finished_fields gs) r.first g.0) (fields-pass no_chain_tag (finished_fields gs) r.below);
          chain = chain-test k l (finished_fields fs) (finished_fields gs) r.first;
        }

    kept-in : {c : ℕ → Site} {s s' : Ledger} {fs gs : OpenFields} → FieldsStep Q c s fs s' gs → (bodies : ℕ → Bool) → AreProperFields bodies fs → AreProperFields bodies gs → ((i : ℕ) → bodies i ≡ false) → Below (λ i. Class) (finished_fields fs) → Below (λ i. Untagged) (finished_fields fs) → KeptIn (finished_fields fs) (finished_fields gs)
    kept-in (in_first h) bodies proper after none class untagged = let r = kept-by h (bodies zero) proper.0 after.0 (none zero) class.0 untagged.0 in record { below = (r.below, untagged.1); first = r.chain }
    kept-in (in_later h) bodies proper after none class untagged = let r = kept-in h (λ i. bodies (suc i)) proper.1 after.1 (λ i. none (suc i)) class.1 untagged.1 in record { below = (untagged.0, r.below); first = λ e. e }

    kept-by : {n : Site} {s s' : Ledger} {f g : OpenField} → FieldStep Q n s f s' g → (b : Bool) → IsProperField b f → IsProperField b g → b ≡ false → BelowField Class (finished_field f) → BelowField Untagged (finished_field f) → KeptBy (finished_field f) (finished_field g)
    kept-by (in_child h) b proper after none class untagged = let r = kept h proper after class untagged in record { below = r.untagged; chain = r.chain }
    kept-by (in_children h) b proper after none class untagged = record { below = kept-all h proper after class untagged; chain = λ e. refl }
    kept-by (in_body e y y' h) b proper after none class untagged = absurd (let e : b ≡ true = proper.0 in cc (e, none))
    kept-by (in_list {p = p} {q = q} {y = y} {b = d} {ts = ts} {us = us} e e' h) b proper after none class untagged = record {
      below = whole-below Untagged untagged-vars q y d (finished_trees us) after.0 (kept-all h proper.1 after.1 (below-after Class (pending_statements p y d) (finished_trees ts) class) (below-after Untagged (pending_statements p y d) (finished_trees ts) untagged));
      chain = λ e. refl;
    }
    kept-by (in_target {p = p} {q = q} {y = y} {y' = y'} {b = d} {ts = ts} {us = us} e h) b proper after none class untagged = record {
      below = whole-below Untagged untagged-vars q y' d (finished_trees us) after.0 (kept-all h proper.1 after.1 (below-after Class (pending_statements p y d) (finished_trees ts) class) (below-after Untagged (pending_statements p y d) (finished_trees ts) untagged));
      chain = λ e. refl;
    }
    kept-by (in_program {p = p} {q = q} {y = y} {y' = y'} {b = d} {b' = d'} {ts = ts} {us = us} e h) b proper after none class untagged = record {
      below = whole-below Untagged untagged-vars q y' d' (finished_trees us) after.0 (kept-all h proper.1 after.1 (below-after Class (pending_statements p y d) (finished_trees ts) class) (below-after Untagged (pending_statements p y d) (finished_trees ts) untagged));
      chain = λ e. refl;
    }
    kept-by (acts_on_list {n = n} {s = s} {s' = s'} {p = p} {q = q} {x = x} {y = y} {a = a} {b = d} ts us h) b proper after none class untagged =
        let same = ap (λ vs. whole_list p x a vs) (finished-trees ts) ∙ (law.at_lists n s s' p q x y a d ts us h proper.0).trees ∙ sym (ap (λ vs. whole_list q y d vs) (finished-trees us)) in
        record { below = subst (λ (vs : Trees). BelowTrees Untagged vs) same untagged; chain = λ e. refl }
    kept-by (acts_on_body t u h) b proper after none class untagged = absurd (let e : b ≡ true = proper.0 in cc (e, none))

    kept-all : {n : Site} {s s' : Ledger} {ts us : OpenTrees} → TreesStep Q n s ts s' us → AreProperTrees ts → AreProperTrees us → BelowTrees Class (finished_trees ts) → BelowTrees Untagged (finished_trees ts) → BelowTrees Untagged (finished_trees us)
    kept-all (in_head h) proper after class untagged = ((kept h proper.0 after.0 class.0 untagged.0).untagged, untagged.1)
    kept-all (in_tail h) proper after class untagged = (untagged.0, kept-all h proper.1 after.1 class.1 untagged.1)
    kept-all (in_flanked h) proper after class untagged = absurd proper
    kept-all (after_flanked h) proper after class untagged = absurd proper
    kept-all (flanks {n = n} {s = s} {s' = s'} {bs = bs} {cs = cs} t u h) proper after class untagged = absurd (law.no_flanks n s s' t u bs cs h)
    kept-all (acts_on_flanked t us h) proper after class untagged = absurd proper

  pub untagged-after : {n : Site} {s s' : Ledger} {x y : Open} → Step Q n s x s' y → IsProper x → IsProper y → Class (finished x) → Untagged (finished x) → Untagged (finished y)
  untagged-after h proper after class untagged = (kept h proper after class untagged).untagged

-- THE ROWS make no chains

made-untagged : PassesMade any_name any_object no_chain_tag
made-untagged = passes-any no_chain_tag made (λ l fs. refl) (λ l. refl)
  where
    made : (k : AstType) (l : Label) (fs : Fields) → is_made_kind k ≡ true → no_chain_tag k l fs ≡ true
    made TaggedTemplateExpression l fs e = absurd (cc e)
    made _ l fs e = refl

pub coalescing-no-chain : (n : Site) (w : Whole) (bs : List Bound) (t u : Tree) → NullishCoalescingRule n w bs t u → Unchained t u
coalescing-no-chain n w bs t u h c = (coalescing-of any_name any_object no_chain_tag made-untagged n w bs t u h c, kind bs t u h)
  where
    kind : (bs : List Bound) (t u : Tree) → NullishCoalescingRule n w bs t u → is_chain u ≡ false
    kind bs t u (with_temporary texts again next) = refl
    kind bs t u (reading_again texts again) = refl

pub assigning-no-chain : (n : Site) (w : Whole) (bs : List Bound) (t u : Tree) → LogicalAssignmentRule n w bs t u → Unchained t u
assigning-no-chain n w bs t u h c = (assigning-of any_name any_object no_chain_tag made-untagged n w bs t u h c, kind bs t u h)
  where
    kind : (bs : List Bound) (t u : Tree) → LogicalAssignmentRule n w bs t u → is_chain u ≡ false
    kind bs t u (to_name texts operator alone at) = refl
    kind bs t u (to_static_member texts operator alone at flags object) = refl
    kind bs t u (to_computed_member texts operator alone at flags object key) = refl

pub raising-no-chain : (n : Site) (w : Whole) (bs : List Bound) (t u : Tree) → ExponentiationRule n w bs t u → Unchained t u
raising-no-chain n w bs t u h c = (raising-of any_name any_object no_chain_tag made-untagged n w bs t u h c, kind bs t u h)
  where
    assigned : (m : Label) (fs : List Tree) (target read r : Tree) → is_chain (assigned_power m fs target read r) ≡ false
    assigned m [] target read r = refl
    assigned m (f ∷ fs) target read r = refl

    kind : (bs : List Bound) (t u : Tree) → ExponentiationRule n w bs t u → is_chain u ≡ false
    kind bs t u (power free texts left right) = refl
    kind bs t u (power_assignment {m = m} {r = r} {target = target} {read = read} {fs = fs} free texts right alone object) = assigned m fs target read r

pub chaining-no-chain : (no_all : Bool) (n : Site) (w : Whole) (bs : List Bound) (t u : Tree) → OptionalChainingRule no_all n w bs t u → Unchained t u
chaining-no-chain no_all n w bs t u h c = (chaining-of any_name any_object no_chain_tag made-untagged no_all n w bs t u h c, kind bs t u h)
  where
    short : (m : Label) (ts : List Tree) (a b : Tree) → has_tests ts ≡ true → is_chain (where_short m ts a b) ≡ false
    short m [] a b e = absurd (cc e)
    short m (t ∷ ts) a b e = refl

    kind : (bs : List Bound) (t u : Tree) → OptionalChainingRule no_all n w bs t u → is_chain u ≡ false
    kind bs t u (by_tests {m = m} {w = way} level r some) = short m way.tests _ way.current some
    kind bs t u (as_callee {m = m} {d = d} {w = way} level r some callee) = short m way.tests _ d some
    kind bs t u (in_delete {m = m} {w = way} texts alone target r some) = short m way.tests _ _ some

pub catch-no-chain : (n : Site) (s s' : Ledger) (t u : Tree) → CatchRule n s (at_node t) s' (at_node u) → Unchained t u
catch-no-chain n s s' t u (catches fresh) c = (c, refl)

copy-no-chain : (u : Tree) → is_copy (kind_of u) ≡ true → is_chain u ≡ false
copy-no-chain (node CallExpression l fs) h = refl
copy-no-chain (node ObjectExpression l fs) h = refl
copy-no-chain (node _ l fs) h = absurd (cc h)

untagged-placed : (m : Label) (u : Tree) → all_nodes no_chain_tag (placed m u) ≡ all_nodes no_chain_tag u
untagged-placed m (node TaggedTemplateExpression l fs) = refl
untagged-placed m (node _ l fs) = refl

pub spread-no-chain : (n : Site) (w : Whole) (bs : List Bound) (t u : Tree) → SpreadRule n w bs t u → Unchained t u
spread-no-chain n w bs t u h c = (spread-so no_chain_tag refl (λ given. refl) (λ ps. refl) untagged-placed n w bs t u h c, copy-no-chain u (spread-copy n w bs t u h).kind)

-- THE START: marks and ids don't count

tag-bare : (k : AstType) (l m : Label) (fs : Fields) → no_chain_tag k m (bare_fields fs) ≡ no_chain_tag k l fs
tag-bare TaggedTemplateExpression l m done = refl
tag-bare TaggedTemplateExpression l m (missing then fs) = refl
tag-bare TaggedTemplateExpression l m (one t then fs) = ap (λ (k : AstType). not (is_chain_kind k)) (inner-kind-bare t)
tag-bare TaggedTemplateExpression l m (many ts then fs) = refl
tag-bare TaggedTemplateExpression l m (statements ts then fs) = refl
tag-bare _ l m fs = refl

pub source-untagged : (p : Tree) → Untagged p → Untagged (source p)
source-untagged p h = source-passes no_chain_tag (λ k l fs. tag-bare k l (bare_label l) fs) p h
