-- The rows of optional chaining keep the conditions, and settle chains; a chain is lowered where its value is taken, or by what calls or
-- deletes it (ECMA-262, 13.3.9).
use Rattle.std.proofs.Common.{◌≡◌, ◌&&◌, ℕ, Bool, true, false, List, [], ◌∷◌, refl, sym, ap, subst, ◌∙◌, true≢false}
use Rattle.std.specs.Prelude.{Option, not}
use Rattle.std.proofs.lemmas.Bool.{and_from, and_parts, and_right, not-false, or_right}
use Rattle.es_tree.specs.CoreStaticRules.{has_optional}
use Rattle.es_tree.specs.HasForm.{has_form, trees_form}
use Rattle.es_tree.specs.Names.{flag_at}
use Rattle.es_tree.specs.Parens.{without_parens}
use Rattle.es_tree.specs.Tree.{Tree, node, Label, done, ◌then◌, one, many, Trees, kind_of}
use Rattle.es_tree.specs.Walks.{any_in_fields, any_in_trees, any_node}
use Rattle.es_tree.specs.Words.{Text}
use Rattle.es_tree.specs.declared.ast_type.AstType.TheVariants.{CallExpression, ChainExpression, ParenthesizedExpression, UnaryExpression}
use Rattle.es_tree.specs.declared.options.EnvOptions.{EnvOptions}
use Rattle.es_tree.specs.declared.table.Sort.{Sort}
use Rattle.es_tree.specs.declared.table.Sort.TheVariants.{Argument as s-Argument, Expression as s-Expression}
use Rattle.es_tree.proofs.NodeForm.{node_form}
use Rattle.es_runs.specs.Alike.{Level, the_callee}
use Rattle.es_runs.specs.Core.{flag}
use Rattle.es_runs.specs.OptionalChaining.{delete_node, has_tests, is_chain_kind, takes_value, true_node, where_short}
use Rattle.es_runs.specs.Rules.{strays, strays_fields, strays_nodes, void_zero_node}
use Rattle.es_resolution.specs.Declarations.{Bound}
use Rattle.es_steps.specs.Open.{is_body, opened_fields}
use Rattle.es_steps.specs.OptionalChaining.{OptionalChainingRule, Way}
use Rattle.es_steps.specs.OptionalChaining.OptionalChainingRule.{as_callee, by_tests, in_delete}
use Rattle.es_steps.specs.Rules.{with_made}
use Rattle.es_steps.specs.Slots.{holds, in_open_slot}
use Rattle.es_steps.specs.Steps.{Site, Whole, site_in}
use Rattle.es_steps.specs.WrapRule.{is_wrapped_for, takes_one}
use Rattle.es_steps.proofs.FormParts.{and-right}
use Rattle.es_steps.proofs.FormRows.{two-parts}
use Rattle.es_conditions.specs.CoreConditions.{each_passes, each_passes_among, inside_site, is_chain_inside, is_free, is_past_chains, is_placed, is_settled, is_unmarked_chain, is_wrapped, put_inside}
use Rattle.es_conditions.specs.Laws.{Keeps, LawChains, LawChainsOff, called_by, callee_site}
use Rattle.es_conditions.proofs.Inward.{Known, unmarked}
use Rattle.es_conditions.proofs.Marks.{first-of, none-where}
use Rattle.es_conditions.proofs.Parts.{AreParts, Made, Part, PartsAmong, among-at, made-called, made-delete, made-parens, part-at, part-bare, part-of, two-none, two-of}
use Rattle.es_conditions.proofs.Rows.{free-of, scope_at, outside-slots, wrapped-made, wrapped-of}
use Rattle.es_conditions.proofs.Spines.{callee-part, content-in, content-on, short-made, true-part, void-part, walked-parts}
use Rattle.es_conditions.proofs.Unwrapped.{chain-holds, either-way}

-- `tests ? short : long` is no chain

short-plain : (m : Label) (ts : List Tree) (short long : Tree) → has_tests ts ≡ true → is_chain_inside (where_short m ts short long) ≡ false
short-plain m [] short long e = absurd (true≢false (sym e))
short-plain m (t ∷ ts) short long e = refl

module _ (o : EnvOptions) where
  short-settled : (m : Label) (ts : List Tree) (short long : Tree) → has_tests ts ≡ true → is_settled o (where_short m ts short long) ≡ true
  short-settled m [] short long e = absurd (true≢false (sym e))
  short-settled m (t ∷ ts) short long e = none-where o.es2020.optional_chaining false (λ on. refl)

  -- WHAT SLOTS ARE WRAPPED FOR

  pub inside-holds : o.es2020.optional_chaining ≡ true → (t : Tree) → is_chain_inside t ≡ true → holds (is_wrapped_for o) t ≡ true
  inside-holds on (node ChainExpression l fs) e = chain-holds o ChainExpression l fs (rw on refl)
  inside-holds on (node ParenthesizedExpression l (one t then fs)) e = or_right (is_wrapped_for o ParenthesizedExpression l (one t then fs)) _ (either-way (holds (is_wrapped_for o) t) _ (inside-holds on t e))
  inside-holds on t e = absurd (true≢false (sym e))

  -- ROWS

  -- what a row of chains makes
  record ChainMade (s : Text → Option ℕ) (u : Tree) : Type 0 where
    made : Made o s u
    no_chain : is_chain_inside u ≡ false
    settled : is_settled o u ≡ true

  chain-made : (s : Text → Option ℕ) (m : Label) (w : Way) (short long : Tree) → has_tests w.tests ≡ true → AreParts o s w.tests → Part o s short → Part o s long → ChainMade s (where_short m w.tests short long)
  chain-made s m w short long tests h k l = record { made = short-made o s m w.tests short long tests h k l; no_chain = short-plain m w.tests short long tests; settled = short-settled m w.tests short long tests }

  module _ (on : o.es2020.optional_chaining ≡ true) where
    -- the operand of `delete`
    operand-part : (n : Site) (m : Label) (t : Tree) → Known o n (node UnaryExpression m (one t then done)) → Part o (scope_at n) t
    operand-part n m t h =
        let passes = and_parts (is_placed o n UnaryExpression m (one t then done)) (each_passes (is_placed o) (site_in n UnaryExpression m (opened_fields (is_body UnaryExpression) (one t then done)) 0) t && true) h.placed in
        part-at o (scope_at n) (site_in n UnaryExpression m (opened_fields (is_body UnaryExpression) (one t then done)) 0) t (record { scope = λ y u. refl; parameters = λ y u. refl })
        (and_parts (each_passes (is_placed o) (site_in n UnaryExpression m (opened_fields (is_body UnaryExpression) (one t then done)) 0) t) true passes.1).0
        (record { tidy = λ d. first-of (strays false t) false (h.marked.tidy d); full = λ d. first-of (any_node is_unmarked_chain t) false (h.marked.full d) })

    row-made : (no_all : Bool) (n : Site) (known : Whole) (bs : List Bound) (t u : Tree) → OptionalChainingRule no_all n known bs t u → Known o n t → ChainMade (scope_at n) u
    row-made no_all n known bs t u (by_tests {m = m} {e = e} {w = w} takes walked tests) h =
        let it = walked-parts o (scope_at n) no_all known (site_in n ChainExpression m (opened_fields (is_body ChainExpression) (one e then done)) 0) e w walked (content-in o (scope_at n) n m e (λ y u. refl) h.placed h.marked) in
        chain-made (scope_at n) m w void_zero_node w.current tests it.tests (void-part o (scope_at n)) (part-of o (scope_at n) w.current (it.steps tests))
    row-made no_all n known bs t u (as_callee {m = m} {e = e} {d = d} {w = w} {xs = xs} callee walked tests bound) h = absurd (true≢false (sym (h.value on refl) ∙ ap (λ x. takes_value x) callee))
    row-made no_all n known bs t u (in_delete {m = m} {l = l} {t = operand} {e = e} {w = w} texts alone chain walked tests) h =
        let content = content-on o (scope_at n) l e (subst (Part o (scope_at n)) chain (part-bare o (scope_at n) operand (operand-part n m operand h))) in
        let it = walked-parts o (scope_at n) no_all known _ e w walked content in
        chain-made (scope_at n) m w true_node (delete_node w.current) tests it.tests (true-part o (scope_at n)) (part-of o (scope_at n) (delete_node w.current) (made-delete o (scope_at n) w.current (it.steps tests)))

    row-slot : (no_all : Bool) (n : Site) (known : Whole) (bs : List Bound) (t u : Tree) → OptionalChainingRule no_all n known bs t u → is_wrapped o n t ≡ true → in_open_slot n.above ≡ false
    row-slot no_all n known bs t u (by_tests {m = m} {e = e} {w = w} takes walked tests) h = outside-slots o n (node ChainExpression m (one e then done)) h (chain-holds o ChainExpression m (one e then done) (rw on refl))
    row-slot no_all n known bs t u (as_callee {m = m} {e = e} {d = d} {w = w} {xs = xs} callee walked tests bound) h = outside-slots o n (node ChainExpression m (one e then done)) h (chain-holds o ChainExpression m (one e then done) (rw on refl))
    row-slot no_all n known bs t u (in_delete {m = m} {l = l} {t = operand} {e = e} {w = w} texts alone chain walked tests) h =
        outside-slots o n (node UnaryExpression m (one operand then done)) h (or_right (is_wrapped_for o UnaryExpression m (one operand then done)) _ (either-way (holds (is_wrapped_for o) operand) false (inside-holds on operand (ap (λ z. is_chain_kind (kind_of z)) chain))))

    pub chaining-keeps : Keeps (is_wrapped o) (is_free o) (OptionalChainingRule o.assumptions.no_document_all)
    chaining-keeps = record {
      outside = λ n w bs s t u form e r. and_right (takes_one bs) (in_open_slot n.above) (row-slot o.assumptions.no_document_all n w bs t u r e);
      known = λ n w bs s t u form e r.
          let known = (wrapped-of o n t e).known in
          let it = row-made o.assumptions.no_document_all n w bs t u r known in
          free-of o n u (wrapped-made o n u (row-slot o.assumptions.no_document_all n w bs t u r e) known.past it.made it.no_chain) it.settled;
    }

    -- CALLEES

    inside-level : (n : Site) (t : Tree) → (inside_site n t).need.level ≡ n.need.level
    inside-level n (node ParenthesizedExpression l (one t then fs)) = inside-level (site_in n ParenthesizedExpression l (opened_fields (is_body ParenthesizedExpression) (one t then fs)) 0) t
    inside-level n t = refl

    inside-slot : (n : Site) (t : Tree) → in_open_slot (inside_site n t).above ≡ in_open_slot n.above
    inside-slot n (node ParenthesizedExpression l (one t then fs)) = inside-slot (site_in n ParenthesizedExpression l (opened_fields (is_body ParenthesizedExpression) (one t then fs)) 0) t
    inside-slot n t = refl

    put-chain : (f d : Tree) → is_chain_inside (put_inside f d) ≡ is_chain_inside d
    put-chain (node ParenthesizedExpression l (one t then fs)) d = put-chain t d
    put-chain f d = refl

    put-made : (s : Text → Option ℕ) (f d : Tree) → has_form s-Expression f ≡ true → Made o s d → Made o s (put_inside f d)
    put-made s (node ParenthesizedExpression l (one t then done)) d form h = made-parens o s l (put_inside t d) (put-made s t d (and_parts (has_form s-Expression t) true (node_form s-Expression ParenthesizedExpression l (one t then done) form).children).0 h)
    put-made s (node ParenthesizedExpression l (one t then (f then fs))) d form h = absurd (true≢false (sym (and-right (has_form s-Expression t) false (node_form s-Expression ParenthesizedExpression l (one t then (f then fs)) form).children)))
    put-made s f d form h = h

    -- what a chain becomes as a callee
    called-made : (s : Text → Option ℕ) (no_all : Bool) (n : Site) (known : Whole) (bs : List Bound) (t d : Tree) → OptionalChainingRule no_all n known bs t d → n.need.level ≡ Level.a_callee → is_chain_kind (kind_of t) ≡ true → Part o s t → ChainMade s d
    called-made s no_all n known bs t u (by_tests {m = m} {e = e} {w = w} takes walked tests) level chain h = absurd (true≢false (sym takes ∙ ap (λ x. takes_value x) level))
    called-made s no_all n known bs t u (as_callee {m = m} {e = e} {d = d} {w = w} {xs = xs} callee walked tests bound) level chain h =
        let it = walked-parts o s no_all known _ e w walked (content-on o s m e h) in
        chain-made s m w void_zero_node d tests it.tests (void-part o s) (callee-part o s (with_made w.taken known) w.holder xs w.current d bound (part-of o s w.current (it.steps tests)))
    called-made s no_all n known bs t u (in_delete {m = m} {l = l} {t = operand} {e = e} {w = w} texts alone inside walked tests) level chain h = absurd (true≢false (sym chain))

    -- a call whose callee holds a chain
    record CallKnown (n : Site) (l : Label) (f : Tree) (arguments : Trees) : Type 0 where
      unmarked : flag l.flags ≡ false
      slot : in_open_slot n.above ≡ false
      past : is_past_chains o n ≡ true
      callee : Part o (scope_at n) f
      among : PartsAmong o (scope_at n) arguments

    call-known : (n : Site) (l : Label) (f : Tree) (arguments : Trees) → is_wrapped o n (called_by l f arguments) ≡ true → is_chain_inside f ≡ true → CallKnown n l f arguments
    call-known n l f arguments e c =
        let fs = one f then many arguments then done in
        let sites = site_in n CallExpression l (opened_fields (is_body CallExpression) fs) in
        let h = (wrapped-of o n (called_by l f arguments) e).known in
        let passes = two-of (is_placed o n CallExpression l fs) (each_passes (is_placed o) (sites 0) f) (each_passes_among (is_placed o) (sites 1) arguments) h.placed in
        record {
          unmarked = unmarked o (flag l.flags) (strays_fields false fs) (h.marked.tidy on);
          slot = outside-slots o n (called_by l f arguments) e (or_right (is_wrapped_for o CallExpression l fs) _ (either-way (holds (is_wrapped_for o) f) _ (inside-holds on f c)));
          past = h.past;
          callee = part-at o (scope_at n) (sites 0) f (record { scope = λ y u. refl; parameters = λ y u. refl }) passes.0 (record { tidy = λ d. (two-none (flag l.flags && true) (strays false f) (strays_nodes false arguments) (h.marked.tidy d)).0; full = λ d. (two-none false (any_node is_unmarked_chain f) (any_in_trees is_unmarked_chain arguments) (h.marked.full d)).0 });
          among = among-at o (scope_at n) (sites 1) arguments (record { scope = λ y u. refl; parameters = λ y u. refl }) passes.1 (λ d. (two-none (flag l.flags && true) (strays false f) (strays_nodes false arguments) (h.marked.tidy d)).1) (λ d. (two-none false (any_node is_unmarked_chain f) (any_in_trees is_unmarked_chain arguments) (h.marked.full d)).1);
        }

    level-of : (marked : Bool) → marked ≡ false → (the_callee marked).level ≡ Level.a_callee
    level-of true e = absurd (true≢false e)
    level-of false e = refl

    callee-level : (n : Site) (l : Label) (f : Tree) (arguments : Trees) → flag l.flags ≡ false → (callee_site n l f arguments).need.level ≡ Level.a_callee
    callee-level n l f arguments e = inside-level (site_in n CallExpression l (opened_fields (is_body CallExpression) (one f then many arguments then done)) 0) f ∙ level-of (flag l.flags) e

    call-lowered : (n : Site) (w : Whole) (bs : List Bound) (sort : Sort) (l : Label) (f d : Tree) (arguments : Trees) → has_form sort (called_by l f arguments) ≡ true → is_wrapped o n (called_by l f arguments) ≡ true → is_chain_inside f ≡ true → OptionalChainingRule o.assumptions.no_document_all (callee_site n l f arguments) w bs (without_parens f) d → is_free o n (called_by l (put_inside f d) arguments) ≡ true
    call-lowered n w bs sort l f d arguments form e c r =
        let call = call-known n l f arguments e c in
        let it = called-made (scope_at n) o.assumptions.no_document_all (callee_site n l f arguments) w bs (without_parens f) d r (callee-level n l f arguments call.unmarked) c (part-bare o (scope_at n) f call.callee) in
        let formed = (two-parts (has_form s-Expression f) (trees_form s-Argument s-Argument arguments) (node_form sort CallExpression l (one f then many arguments then done) form).children).0 in
        let made = made-called o (scope_at n) l (put_inside f d) arguments call.unmarked (put-made (scope_at n) f d formed it.made) call.among in
        free-of o n (called_by l (put_inside f d) arguments) (wrapped-made o n (called_by l (put_inside f d) arguments) call.slot call.past made refl)
        (none-where o.es2020.optional_chaining _ (λ d'. and_right (not (flag_at 0 l.flags)) (is_chain_inside (put_inside f d)) (put-chain f d ∙ it.no_chain)))

pub law_chains_proof : LawChains
law_chains_proof o on = record {
  value = λ n m e h. (wrapped-of o n (node ChainExpression m (one e then done)) h).known.value on refl;
  marked = λ n m e h. not-false (has_optional e) (first-of (not (has_optional e)) (any_in_fields is_unmarked_chain (one e then done)) ((wrapped-of o n (node ChainExpression m (one e then done)) h).known.marked.full on));
  tidy = λ n t h. (wrapped-of o n t h).known.marked.tidy on;
  called = call-lowered o on;
  callee = λ n l f arguments h c. callee-level o on n l f arguments (call-known o on n l f arguments h c).unmarked;
  called_outside = λ n l f arguments h c. inside-slot o on (site_in n CallExpression l (opened_fields (is_body CallExpression) (one f then many arguments then done)) 0) f ∙ (call-known o on n l f arguments h c).slot;
  settled = λ n t h e. free-of o n t h e;
}

pub law_chains_off_proof : LawChainsOff
law_chains_off_proof o n t off h = and_from (is_wrapped o n t) (is_settled o t) h (settled-off t)
  where
    settled-off : (t : Tree) → is_settled o t ≡ true
    settled-off (node k l fs) = none-where o.es2020.optional_chaining _ (λ on. absurd (true≢false (sym on ∙ off)))
