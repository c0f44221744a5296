-- Rules leave arrows that can become functions: what each of them owes, and that a function has what an arrow had.
use Rattle.std.proofs.Common.{◌≡◌, ◌==◌, ℕ, zero, suc, inl, inr, refl, subst, ◌∙◌, List, [], ◌∷◌, arith}
use Rattle.std.specs.Prelude.{◌&&◌, ◌||◌, Bool, true, false, Some, is_some}
use Rattle.std.proofs.lemmas.Bool.{ne_eqb}
use Rattle.es_tree.specs.Ancestors.{Ancestor, ancestor}
use Rattle.es_tree.specs.HasForm.{has_form}
use Rattle.es_tree.specs.Tree.{Tree, node, Label, Fields, done, ◌then◌, missing, one, many, Trees, empty, ◌before◌, kind_of}
use Rattle.es_tree.specs.declared.ast_type.AstType.{AstType}
use Rattle.es_tree.specs.declared.ast_type.AstType.TheVariants.{ArrowFunctionExpression, AssignmentPattern, CatchClause, FunctionBody, FunctionExpression, PatternProperty, PropertyDefinition}
use Rattle.es_tree.specs.declared.options.EnvOptions.{EnvOptions}
use Rattle.es_tree.specs.declared.table.Sort.{Sort}
use Rattle.es_semantic.proofs.FormEdges.{Edges, EdgesAll}
use Rattle.es_resolution.specs.Declarations.{Bound}
use Rattle.es_steps.specs.Arrows.{ArrowRule}
use Rattle.es_steps.specs.Arrows.ArrowRule.{by_name, by_new_name, with_body, with_expression}
use Rattle.es_steps.specs.CoreRules.{RowRule, rule_under, where_on}
use Rattle.es_steps.specs.Exponentiation.{ExponentiationRule}
use Rattle.es_steps.specs.Exponentiation.ExponentiationRule.{power, power_assignment}
use Rattle.es_steps.specs.LogicalAssignment.{LogicalAssignmentRule}
use Rattle.es_steps.specs.LogicalAssignment.LogicalAssignmentRule.{to_name, to_static_member, to_computed_member}
use Rattle.es_steps.specs.Nodes.{body_node, identifier, made, placed, return_node}
use Rattle.es_steps.specs.NullishCoalescing.{NullishCoalescingRule}
use Rattle.es_steps.specs.NullishCoalescing.NullishCoalescingRule.{with_temporary, reading_again}
use Rattle.es_steps.specs.ObjectSpread.{SpreadRule}
use Rattle.es_steps.specs.ObjectSpread.SpreadRule.{spreads}
use Rattle.es_steps.specs.OptionalCatch.{CatchRule}
use Rattle.es_steps.specs.OptionalCatch.CatchRule.{catches}
use Rattle.es_steps.specs.OptionalChaining.{OptionalChainingRule}
use Rattle.es_steps.specs.OptionalChaining.OptionalChainingRule.{by_tests, as_callee, in_delete}
use Rattle.es_steps.specs.RestAssignments.{RestAssignmentRule}
use Rattle.es_steps.specs.RestAssignments.RestAssignmentRule.{assigns}
use Rattle.es_steps.specs.Rules.{Replacing, Writing, either_rule, next_name}
use Rattle.es_steps.specs.Rules.Replacing.{replaces}
use Rattle.es_steps.specs.Slots.{holds, is_in_parameter, is_slot}
use Rattle.es_steps.specs.Steps.{Ledger, Site, Spot, Whole}
use Rattle.es_steps.specs.Steps.Spot.{at_node}
use Rattle.es_steps.specs.ThisPlaces.{belongs_to_arrow, has_this, this_in_trees}
use Rattle.es_steps.specs.WrapRule.{OutsideSlots, WrapRule, called_arrow, is_wrapped_for}
use Rattle.es_steps.specs.WrapRule.WrapRule.{wraps}
use Rattle.es_steps.proofs.RuleLaws.{writes-lists}
use Rattle.es_valid_steps.specs.ArrowNodes.{is_this_within}
use Rattle.es_valid_steps.proofs.FurtherSteps.{alone}
use Rattle.es_conditions.proofs.Marks.{first-of, second-of}
use Rattle.es_conditions.proofs.Unwrapped.{name-holds, no-nullish, two-hold-none, unwrapped}
use Rattle.es_conditions.proofs.Wraps.{arrow-holds}
use Rattle.es_valid_arrows.proofs.Fits.{ArrowsFit, ArrowsFitAll}
use Rattle.es_valid_arrows.proofs.ArrowSteps.{arrows_alone}
use Rattle.es_valid_arrows.proofs.FitRows.{Replaced, RowFit, assigning-fit, chaining-fit, coalescing-fit, raising-fit, spreading-fit, assigning_rest-fit}
use Rattle.es_valid_arrows.proofs.FitTrees.{FitSeen, anywhere, anywhere-all, apart-fits, is_settled, lower, lower-all, settled-pattern, settled-seen, settled-this, settled-unseen}
use Rattle.es_valid_arrows.proofs.HeldRows.{None_of, RowHeld, assigning-held, chaining-held, coalescing-held, raising-held, spreading-held, assigning_rest-held}
use Rattle.es_valid_arrows.proofs.HeldTrees.{identifier-none}
use Rattle.es_valid_arrows.proofs.Nested.{edges-nested, nested}
use Rattle.es_valid_arrows.proofs.WrappedParts.{SeenAlike, unseen-alike}

-- PLACES

-- What is known of what stands at this site: whether it belongs to an arrow, as all does that is in a slot and holds what that is wrapped
-- for, and whether it is a parameter.
pub record Marked (o : EnvOptions) (n : Site) (held arrow parameter : Bool) : Type 0 where
  pub parameter_is : parameter ≡ is_in_parameter n.above
  pub in_slot : is_slot n.above ≡ true → held ≡ true → arrow ≡ true
  pub belongs : belongs_to_arrow n.above ≡ true → arrow ≡ true

later : (i : ℕ) → (suc i == 0) ≡ false
later i = ne_eqb (suc i) 0 (λ d. omega (arith, d))

-- a slot is no parameter, and no part of one
slot-apart : (up : List Ancestor) → is_slot up ≡ true → is_in_parameter up ≡ false
slot-apart [] e = refl
slot-apart (a ∷ up) e = at a.kind a.label a.fields a.index a.number e
  where
    at : (k : AstType) (l : Label) (fs : Fields) (i m : ℕ) → is_slot (ancestor k l fs i m ∷ up) ≡ true → is_in_parameter (ancestor k l fs i m ∷ up) ≡ false
    at PropertyDefinition l fs i m e = refl
    at AssignmentPattern l fs zero m e = absurd (cc e)
    at AssignmentPattern l fs (suc i) m e = λ j. (later i j || false) && is_in_parameter up
    at PatternProperty l fs zero m e = refl
    at PatternProperty l fs (suc i) m e = absurd (cc (e, later i))
    at k l fs i m e = absurd (cc e)

-- RULES

pub record FitLeft (o : EnvOptions) (n : Site) (arrow parameter reaches : Bool) (t u : Tree) : Type 0 where
  pub fits : ArrowsFit o arrow parameter reaches u
  pub seen : FitSeen t u
  pub alike : is_slot n.above ≡ false → SeenAlike (one t) (one u)
  -- where nothing was that slots are wrapped for, nothing is
  pub none : None_of o t → None_of o u
  -- `this` in parentheses is changed in arrows alone
  pub named : is_this_within (Some t) ≡ true → arrow ≡ true

pub record FitLawful (o : EnvOptions) (R : Site → Ledger → Spot → Ledger → Spot → Type 0) : Type 0 where
  pub at_nodes : (n : Site) (s s' : Ledger) (t u : Tree) (a : Sort) (arrow parameter reaches : Bool) → Marked o n (holds (is_wrapped_for o) t) arrow parameter → R n s (at_node t) s' (at_node u) → has_form a t ≡ true → ArrowsFit o arrow parameter reaches t → FitLeft o n arrow parameter reaches t u

module _ (o : EnvOptions) where
  -- what a row leaves is no pattern, and so it is the same among parameters
  left : (n : Site) (arrow parameter reaches : Bool) (t u : Tree) → is_settled (kind_of t) ≡ true → Replaced o arrow reaches u → (None_of o t → None_of o u) → FitLeft o n arrow parameter reaches t u
  left n arrow parameter reaches t (node k l fs) e r none =
      record { fits = apart-fits o arrow false parameter reaches l k fs (settled-pattern k r.kind) r.fit; seen = settled-seen t (node k l fs) r.kind; alike = λ d. unseen-alike t (node k l fs) (settled-unseen (kind_of t) e) (settled-unseen k r.kind); none = none; named = λ h. absurd (let d = settled-this t e in cc (h, d)) }

  -- nor is what rows act on
  row-fits : (Q : Site → Whole → List Bound → Tree → Tree → Type 0) (R : Site → Whole → List Bound → Tree → Tree → Type 0) → ((n : Site) (w : Whole) (bs : List Bound) (t u : Tree) → R n w bs t u → Q n w bs t u) → ((n : Site) (w : Whole) (bs : List Bound) (t u : Tree) → Q n w bs t u → is_settled (kind_of t) ≡ true) → ((arrow reaches : Bool) → RowFit o arrow reaches Q) → RowHeld o Q → FitLawful o (Replacing R)
  row-fits Q R rule kinds fit held = record { at_nodes = nodes }
    where
      bare : (arrow parameter reaches : Bool) (t : Tree) → is_settled (kind_of t) ≡ true → ArrowsFit o arrow parameter reaches t → ArrowsFit o arrow false reaches t
      bare arrow parameter reaches (node k l fs) e f = apart-fits o arrow parameter false reaches l k fs (settled-pattern k e) f

      nodes : (n : Site) (s s' : Ledger) (t u : Tree) (a : Sort) (arrow parameter reaches : Bool) → Marked o n (holds (is_wrapped_for o) t) arrow parameter → Replacing R n s (at_node t) s' (at_node u) → has_form a t ≡ true → ArrowsFit o arrow parameter reaches t → FitLeft o n arrow parameter reaches t u
      nodes n s s' t u a arrow parameter reaches m (replaces {w = w} bs h) formed f =
          let r = rule n w bs t u h in
          left n arrow parameter reaches t u (kinds n w bs t u r) (fit arrow reaches n w bs t u r (bare arrow parameter reaches t (kinds n w bs t u r) f)) (held n w bs a t u r formed)

  core-row : (R : Site → Whole → List Bound → Tree → Tree → Type 0) → ((n : Site) (w : Whole) (bs : List Bound) (t u : Tree) → R n w bs t u → is_settled (kind_of t) ≡ true) → ((arrow reaches : Bool) → RowFit o arrow reaches R) → RowHeld o R → FitLawful o (RowRule R)
  core-row R kinds fit held = row-fits R (OutsideSlots R) (λ n w bs t u h. h.rule) kinds fit held

  assigning-kind : (n : Site) (w : Whole) (bs : List Bound) (t u : Tree) → LogicalAssignmentRule n w bs t u → is_settled (kind_of t) ≡ true
  assigning-kind n w bs t u (to_name texts op alone target) = refl
  assigning-kind n w bs t u (to_static_member texts op alone target flags object) = refl
  assigning-kind n w bs t u (to_computed_member texts op alone target flags object key) = refl

  coalescing-kind : (n : Site) (w : Whole) (bs : List Bound) (t u : Tree) → NullishCoalescingRule n w bs t u → is_settled (kind_of t) ≡ true
  coalescing-kind n w bs t u (with_temporary texts again next) = refl
  coalescing-kind n w bs t u (reading_again texts again) = refl

  raising-kind : (n : Site) (w : Whole) (bs : List Bound) (t u : Tree) → ExponentiationRule n w bs t u → is_settled (kind_of t) ≡ true
  raising-kind n w bs t u (power math texts first second) = refl
  raising-kind n w bs t u (power_assignment math texts value alone twice) = refl

  chaining-kind : (no_all : Bool) (n : Site) (w : Whole) (bs : List Bound) (t u : Tree) → OptionalChainingRule no_all n w bs t u → is_settled (kind_of t) ≡ true
  chaining-kind no_all n w bs t u (by_tests level walked tests) = refl
  chaining-kind no_all n w bs t u (as_callee level walked tests bound) = refl
  chaining-kind no_all n w bs t u (in_delete texts alone chain walked tests) = refl

  spreading-kind : (n : Site) (w : Whole) (bs : List Bound) (t u : Tree) → SpreadRule n w bs t u → is_settled (kind_of t) ≡ true
  spreading-kind n w bs t u (spreads unbound used some quiet d) = refl

  assigning_rest-kind : (n : Site) (w : Whole) (bs : List Bound) (t u : Tree) → RestAssignmentRule n w bs t u → is_settled (kind_of t) ≡ true
  assigning_rest-kind n w bs t u (assigns unbound used texts silent next takes) = refl

  -- what is in a slot that is wrapped belongs to an arrow already
  wrap-fits : FitLawful o (WrapRule o)
  wrap-fits = record { at_nodes = nodes }
    where
      nodes : (n : Site) (s s' : Ledger) (t u : Tree) (a : Sort) (arrow parameter reaches : Bool) → Marked o n (holds (is_wrapped_for o) t) arrow parameter → WrapRule o n s (at_node t) s' (at_node u) → has_form a t ≡ true → ArrowsFit o arrow parameter reaches t → FitLeft o n arrow parameter reaches t u
      nodes n s s' t u a arrow parameter reaches m (wraps {e = e} role expression here construct) formed f =
          let inside : ArrowsFit o true false reaches e = subst (λ (b : Bool). ArrowsFit o b false reaches e) (m.in_slot here construct) (subst (λ (q : Bool). ArrowsFit o arrow q reaches e) (m.parameter_is ∙ slot-apart n.above here) f) in
          record { fits = (refl, ((refl, (tt, (inside, tt))), (tt, tt))); seen = settled-seen e (called_arrow e) refl; alike = λ d. absurd (cc (here, d)); none = λ h. arrow-holds o e; named = λ h. m.in_slot here construct }

  writing-fits : FitLawful o Writing
  writing-fits = record { at_nodes = λ n s s' t u a arrow parameter reaches m h formed f. absurd (writes-lists h) }

  catch-fits : FitLawful o CatchRule
  catch-fits = record { at_nodes = nodes }
    where
      nodes : (n : Site) (s s' : Ledger) (t u : Tree) (a : Sort) (arrow parameter reaches : Bool) → Marked o n (holds (is_wrapped_for o) t) arrow parameter → CatchRule n s (at_node t) s' (at_node u) → has_form a t ≡ true → ArrowsFit o arrow parameter reaches t → FitLeft o n arrow parameter reaches t u
      nodes n s s' t u a arrow parameter reaches m (catches {w = w} {m = l} {body = body} {x = x} fresh) formed f =
          let name = identifier (record { name = x; symbol = Some w.free_symbol }) in
          let fs = one name then one body then done in
          let body_none = λ (h : None_of o t). first-of (holds (is_wrapped_for o) body) false (second-of (is_wrapped_for o CatchClause l (missing then one body then done)) _ h) in
          record {
            fits = (refl, ((refl, tt), (f.1.1.0, tt)));
            seen = settled-seen t u refl;
            alike = λ d. unseen-alike t u refl refl;
            none = λ h. two-hold-none (is_wrapped_for o CatchClause l fs) (holds (is_wrapped_for o) name) (holds (is_wrapped_for o) body) (unwrapped o CatchClause l fs (no-nullish o) refl refl refl refl) (identifier-none o (record { name = x; symbol = Some w.free_symbol })) (body_none h);
            named = λ h. absurd (cc h);
          }

  name-none : (l : Label) (b : Bound) → None_of o (placed l (identifier b))
  name-none l b = name-holds o (record (made (Some b.name ∷ []) []) { start = l.start; stop = l.stop; marks = b.symbol ∷ [] })

  -- nothing in a function counts
  function-none : (l : Label) (ps : Trees) (b : Tree) → None_of o (node FunctionExpression l (missing then many ps then one b then done))
  function-none l ps b = rw (unwrapped o FunctionExpression l (missing then many ps then one b then done) (no-nullish o) refl refl refl refl) refl

  -- a function keeps what is in it from what is around; no `this` is left in it
  arrow-fits : FitLawful o ArrowRule
  arrow-fits = record { at_nodes = nodes }
    where
      less : {b : Bool} → false ≡ true → b ≡ true
      less e = absurd (cc e)

      parameters-fit : (reaches : Bool) (ps : Trees) → EdgesAll nested ArrowFunctionExpression 0 ps → this_in_trees ps ≡ false → ArrowsFitAll o true true reaches ps → ArrowsFitAll o false true false ps
      parameters-fit reaches ps edges none f = lower-all o true false true false less ps (anywhere-all o true true reaches false ArrowFunctionExpression 0 ps edges none f)

      body-fits : (reaches : Bool) (last : Bool) (b : Tree) → Edges nested ArrowFunctionExpression 1 last b → has_this b ≡ false → ArrowsFit o true false reaches b → ArrowsFit o false false true b
      body-fits reaches last b edges none f = lower o true false false true less b (anywhere o true false reaches true ArrowFunctionExpression 1 last b edges none f)

      nodes : (n : Site) (s s' : Ledger) (t u : Tree) (a : Sort) (arrow parameter reaches : Bool) → Marked o n (holds (is_wrapped_for o) t) arrow parameter → ArrowRule n s (at_node t) s' (at_node u) → has_form a t ≡ true → ArrowsFit o arrow parameter reaches t → FitLeft o n arrow parameter reaches t u
      nodes n s s' t u a arrow parameter reaches m (by_name {l = l} {x = x} {s = symbol} found_role belongs reached found used below) formed f = record { fits = (refl, tt); seen = settled-seen t u refl; alike = λ d. unseen-alike t u refl refl; none = λ h. name-none l (record { name = x; symbol = Some symbol }); named = λ h. m.belongs belongs }
      nodes n s s' t u a arrow parameter reaches m (by_new_name {w = w} {l = l} {x = x} found_role belongs reached fresh) formed f = record { fits = (refl, tt); seen = settled-seen t u refl; alike = λ d. unseen-alike t u refl refl; none = λ h. name-none l (next_name w x); named = λ h. m.belongs belongs }
      nodes n s s' t u a arrow parameter reaches m (with_body {l = l} {m = b} {ps = ps} {fs = fs} none) formed f =
          let body = node FunctionBody b fs in
          let edges = edges-nested a ArrowFunctionExpression l (many ps then one body then done) formed in
          record {
            fits = (refl, (tt, (parameters-fit reaches ps edges.0 (first-of (this_in_trees ps) _ none) f.1.0, (body-fits reaches true body edges.1.0 (first-of (has_this body) false (second-of (this_in_trees ps) _ none)) f.1.1.0, tt))));
            seen = settled-seen t u refl;
            alike = λ d. unseen-alike t u refl refl;
            none = λ h. function-none l ps body;
            named = λ h. absurd (cc h);
          }
      nodes n s s' t u a arrow parameter reaches m (with_expression {l = l} {ps = ps} {e = e} expression none) formed f =
          let edges = edges-nested a ArrowFunctionExpression l (many ps then one e then done) formed in
          let inside = body-fits reaches true e edges.1.0 (first-of (has_this e) false (second-of (this_in_trees ps) _ none)) f.1.1.0 in
          record {
            fits = (refl, (tt, (parameters-fit reaches ps edges.0 (first-of (this_in_trees ps) _ none) f.1.0, ((refl, (tt, (((refl, (inside, tt)), tt), tt))), tt))));
            seen = settled-seen t u refl;
            alike = λ d. unseen-alike t u refl refl;
            none = λ h. function-none l ps (body_node (return_node e before empty));
            named = λ h. absurd (cc h);
          }

  -- TOGETHER

  both-fits : {Q R : Site → Ledger → Spot → Ledger → Spot → Type 0} → FitLawful o Q → FitLawful o R → FitLawful o (either_rule Q R)
  both-fits {Q} {R} q r = record { at_nodes = nodes }
    where
      nodes : (n : Site) (s s' : Ledger) (t u : Tree) (a : Sort) (arrow parameter reaches : Bool) → Marked o n (holds (is_wrapped_for o) t) arrow parameter → either_rule Q R n s (at_node t) s' (at_node u) → has_form a t ≡ true → ArrowsFit o arrow parameter reaches t → FitLeft o n arrow parameter reaches t u
      nodes n s s' t u a arrow parameter reaches m (inl h) formed f = q.at_nodes n s s' t u a arrow parameter reaches m h formed f
      nodes n s s' t u a arrow parameter reaches m (inr h) formed f = r.at_nodes n s s' t u a arrow parameter reaches m h formed f

  on-fits : (b : Bool) (R : Site → Ledger → Spot → Ledger → Spot → Type 0) → (b ≡ true → FitLawful o R) → FitLawful o (where_on b R)
  on-fits true R h = h refl
  on-fits false R h = record { at_nodes = λ n s s' t u a arrow parameter reaches m d formed f. absurd d }

  under-fits : FitLawful o (rule_under o)
  under-fits = both-fits writing-fits (both-fits wrap-fits (both-fits (on-fits o.es2021.logical_assignment_operators _ (λ on. core-row LogicalAssignmentRule assigning-kind (λ b r. assigning-fit o b r) (assigning-held o on)))
      (both-fits (both-fits (on-fits o.es2020.nullish_coalescing_operator _ (λ on. core-row NullishCoalescingRule coalescing-kind (λ b r. coalescing-fit o b r) (coalescing-held o on))) (on-fits o.es2020.optional_chaining _ (λ on. core-row (OptionalChainingRule o.assumptions.no_document_all) (chaining-kind o.assumptions.no_document_all) (λ b r. chaining-fit o b r o.assumptions.no_document_all) (chaining-held o o.assumptions.no_document_all on))))
      (on-fits o.es2016.exponentiation_operator _ (λ on. core-row ExponentiationRule raising-kind (λ b r. raising-fit o b r) (raising-held o on))))))

  alone-fits : FitLawful o (alone o)
  alone-fits = both-fits under-fits (both-fits (on-fits o.es2019.optional_catch_binding _ (λ on. catch-fits)) (on-fits (is_some o.es2018.object_rest_spread) _ (λ on. both-fits (row-fits SpreadRule SpreadRule (λ n w bs t u h. h) spreading-kind (λ b r. spreading-fit o b r) (spreading-held o)) (core-row RestAssignmentRule assigning_rest-kind (λ b r. assigning_rest-fit o b r) (assigning_rest-held o on)))))

  pub arrows-fit : FitLawful o (arrows_alone o)
  arrows-fit = both-fits alone-fits (on-fits (is_some o.es2015.arrow_function) _ (λ on. arrow-fits))
