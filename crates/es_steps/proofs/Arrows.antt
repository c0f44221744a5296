-- Names for `this`, and arrows that become functions.
use Rattle.std.proofs.Common.{arith, ◌≤◌, ◌<◌, ◌≡◌, ℕ, refl, sym, ap, subst, ◌∙◌, List, [], ◌++◌}
use Rattle.std.specs.Prelude.{Bool, true, false, ◌||◌, Some, if◌then◌else◌}
use Rattle.es_tree.specs.Words.{Text}
use Rattle.es_tree.specs.Tree.{Tree, node, Label, Fields, done, ◌then◌, missing, one, many, Trees}
use Rattle.es_tree.specs.declared.ast_type.AstType.TheVariants.{ArrowFunctionExpression, FunctionBody, FunctionExpression, ThisExpression}
use Rattle.es_semantic.specs.RolesOf.{reads, role_at}
use Rattle.es_semantic.specs.declared.place.Role.{Role}
use Rattle.es_semantic.specs.declared.place.Role.TheVariants.{Binds}
use Rattle.es_semantic.specs.declared.place.Binding.TheVariants.{Parameter}
use Rattle.es_resolution.specs.Declarations.{Bound, sought, declared_among}
use Rattle.es_resolution.specs.Resolved.{Place, frame, or_around, bound_by, no_name, place_in}
use Rattle.es_resolution.specs.Named.{Named}
use Rattle.es_resolution.specs.Single.{binds, own_binds, one_if, scopes_with, scopes_among}
use Rattle.es_steps.specs.Nodes.{placed, identifier}
use Rattle.es_steps.specs.Steps.{Whole, Ledger, Site, Spot, IsExpression}
use Rattle.es_steps.specs.Steps.Spot.{at_node}
use Rattle.es_steps.specs.Rules.{next_name}
use Rattle.es_steps.specs.Arrows.{ArrowRule}
use Rattle.es_steps.specs.Arrows.ArrowRule.{by_name, by_new_name, with_body, with_expression}
use Rattle.es_steps.proofs.Bodies.{full, in-full, full-scopes, scopes-params}
use Rattle.es_steps.proofs.Kept.{limit, Kept}
use Rattle.es_steps.proofs.Kept.Change.{above, sealed}
use Rattle.es_steps.proofs.OneName.{knowing, lower, it-found, it-used}
use Rattle.es_steps.proofs.RuleLaws.{AtNodes, nodes-only}
use Rattle.es_steps.proofs.Scopes.{no-scopes}
use Rattle.es_steps.proofs.Stays.{stand, stand-all}
use Rattle.es_steps.proofs.Taken.{at-least, none-some, whole_in, nothing_new, NodesKept, Outcome, Lawful}
use Rattle.es_steps.proofs.Taken.Goes.{to_list, to_this}

-- `this` BY NAME

no-more : (c : Bool) (a b : ℕ) → a ≡ 0 → a ≤ b
no-more c a b e = omega arith

again-this : (b : Place) (w : Whole) (l : Label) (x : Text) (s : ℕ) → b.scope x ≡ Some s → w.in_use x ≡ true → s < w.free_symbol → Kept (nothing_new w) b sealed reads (node ThisExpression l done) (placed l (identifier (record { name = x; symbol = Some s })))
again-this b w l x s found used low = record {
  kind = refl;
  top = λ e. (λ f. absurd (cc f), λ f. absurd (cc f));
  own = refl;
  lexical = refl;
  hoisted = refl;
  named = ((used, low), tt);
  scopes = λ z ps e. refl;
  new_scopes = λ z ps e. no-more true 0 (limit sealed (nothing_new w) z) refl;
  resolved = λ p q g ps v h d. (sym (g.scope x used ∙ (λ i. h.scope i x) ∙ found), refl, tt);
}

new-this : (b : Place) (w : Whole) (l : Label) (x : Text) (free : w.in_use x ≡ false) → Kept (knowing w x free) b above reads (node ThisExpression l done) (placed l (identifier (next_name w x)))
new-this b w l x free = record {
  kind = refl;
  top = λ e. (λ f. absurd (cc f), λ f. absurd (cc f));
  own = refl;
  lexical = refl;
  hoisted = refl;
  named = ((it-used w x free, lower w.free_symbol), tt);
  scopes = λ z ps e. refl;
  new_scopes = λ z ps e. no-more true 0 (limit above (knowing w x free) z) refl;
  resolved = λ p q g ps v h d. (sym (v.scope x (Some w.free_symbol) (it-found w x free)), refl, tt);
}

-- ARROWS

abbrev arrow_fields : Trees → Tree → Fields
arrow_fields ps b = many ps then one b then done

abbrev function_fields : Trees → Tree → Fields
function_fields ps b = missing then many ps then one b then done

module _ (n : Site) (w : Whole) (l m : Label) (ps : Trees) (fs : Fields) (used : Named w.in_use w.free_symbol n.role (node ArrowFunctionExpression l (arrow_fields ps (node FunctionBody m fs)))) where
  abbrev b : Tree
  b = node FunctionBody m fs

  abbrev before_at : Place → ℕ → Place
  before_at o i = place_in o ArrowFunctionExpression l (role_at n.role ArrowFunctionExpression l (arrow_fields ps b)) (arrow_fields ps b) i

  abbrev after_at : Place → ℕ → Place
  after_at q i = place_in q FunctionExpression l (role_at n.role FunctionExpression l (function_fields ps b)) (function_fields ps b) i

  same-body : Kept (nothing_new w) n.names sealed n.role (node ArrowFunctionExpression l (arrow_fields ps b)) (node FunctionExpression l (function_fields ps b))
  same-body = record {
    kind = refl;
    top = λ e. (λ f. absurd (cc f), λ f. absurd (cc f));
    own = refl;
    lexical = refl;
    hoisted = refl;
    named = ((tt, used.0.1), (tt, used.1));
    scopes = λ s z e. omega arith;
    new_scopes = λ s z e. let a = no-scopes w.in_use w.free_symbol s e z n.role (node ArrowFunctionExpression l (arrow_fields ps b)) used in no-more true (scopes_with s z n.role (node FunctionExpression l (function_fields ps b))) (limit sealed (nothing_new w) s) (omega arith);
    resolved = λ o q g z v h d.
        let agree = λ (y : Text) (k : w.in_use y ≡ true). ap (λ c. or_around (sought (frame ArrowFunctionExpression l (role_at n.role ArrowFunctionExpression l (arrow_fields ps b)) (arrow_fields ps b)) y) c) (g.scope y k) in
        (tt, refl, (tt, (stand-all w.in_use w.free_symbol (Binds Parameter) (before_at o 0) (after_at q 1) agree g.hoist (λ y k. refl) ps used.1.0 d.2.0, (stand w.in_use w.free_symbol reads (before_at o 1) (after_at q 2) agree g.hoist (λ y k. refl) b used.1.1.0 d.2.1.0, tt))));
  }

module _ (n : Site) (w : Whole) (l : Label) (ps : Trees) (e : Tree) (x : IsExpression e) (used : Named w.in_use w.free_symbol n.role (node ArrowFunctionExpression l (arrow_fields ps e))) where
  abbrev whole_body : Tree
  whole_body = full [] [] e

  abbrev frame_before : List Bound
  frame_before = frame ArrowFunctionExpression l (role_at n.role ArrowFunctionExpression l (arrow_fields ps e)) (arrow_fields ps e)

  abbrev frame_after : List Bound
  frame_after = frame FunctionExpression l (role_at n.role FunctionExpression l (function_fields ps whole_body)) (function_fields ps whole_body)

  frames-same : frame_after ≡ frame_before
  frames-same = sym (λ i. declared_among false (Binds Parameter) ps ++ (x.declares_nothing false i ++ []))

  abbrev earlier_at : Place → ℕ → Place
  earlier_at o i = place_in o ArrowFunctionExpression l (role_at n.role ArrowFunctionExpression l (arrow_fields ps e)) (arrow_fields ps e) i

  abbrev later_at : Place → ℕ → Place
  later_at q i = place_in q FunctionExpression l (role_at n.role FunctionExpression l (function_fields ps whole_body)) (function_fields ps whole_body) i

  ends-agree : (o q : Place) → ((y : Text) → w.in_use y ≡ true → q.scope y ≡ o.scope y) → (y : Text) → w.in_use y ≡ true → (later_at q 1).scope y ≡ (earlier_at o 0).scope y
  ends-agree o q g y k = λ i. or_around (sought (frames-same i) y) (g y k i)

  ends-same : (y : Text) → w.in_use y ≡ true → bound_by frame_after y ≡ bound_by frame_before y
  ends-same y k = λ i. bound_by (frames-same i) y

  count-same : (s : ℕ) (z : Text → Bool) → scopes_with s z n.role (node FunctionExpression l (function_fields ps whole_body)) ≡ scopes_with s z n.role (node ArrowFunctionExpression l (arrow_fields ps e))
  count-same s z =
      let a : one_if (own_binds s z FunctionExpression l (role_at n.role FunctionExpression l (function_fields ps whole_body)) (function_fields ps whole_body)) ≡ one_if (own_binds s z ArrowFunctionExpression l (role_at n.role ArrowFunctionExpression l (arrow_fields ps e)) (arrow_fields ps e)) = (λ i. one_if (binds s (frames-same i) || false)) in
      let b : scopes_among s (bound_by frame_after) (Binds Parameter) ps ≡ scopes_among s (bound_by frame_before) (Binds Parameter) ps = (λ i. scopes_among s (bound_by (frames-same i)) (Binds Parameter) ps) in
      let c = full-scopes (nothing_new w) s (bound_by frame_after) e x in
      let d = scopes-params s (bound_by frame_before) no_name reads e x.no_body in
      omega arith

  new-body : Kept (nothing_new w) n.names sealed n.role (node ArrowFunctionExpression l (arrow_fields ps e)) (node FunctionExpression l (function_fields ps whole_body))
  new-body = record {
    kind = refl;
    top = λ e. (λ f. absurd (cc f), λ f. absurd (cc f));
    own = refl;
    lexical = refl;
    hoisted = sym (λ i. declared_among true (Binds Parameter) ps ++ (x.declares_nothing true i ++ []));
    named = ((tt, used.0.1), (tt, (used.1.0, (((tt, tt), (tt, ((((tt, tt), (used.1.1.0, tt)), tt), tt))), tt))));
    scopes = λ s z d. count-same s z;
    new_scopes = λ s z d. let a = no-scopes w.in_use w.free_symbol s d z n.role (node ArrowFunctionExpression l (arrow_fields ps e)) used in let c = count-same s z in no-more true (scopes_with s z n.role (node FunctionExpression l (function_fields ps whole_body))) (limit sealed (nothing_new w) s) (omega arith);
    resolved = λ o q g z v h d.
        let agree = ends-agree o q g.scope in
        let params = ends-same in
        (tt, refl, (tt, (stand-all w.in_use w.free_symbol (Binds Parameter) (earlier_at o 0) (later_at q 1) agree g.hoist params ps used.1.0 d.2.0, (in-full (nothing_new w) (later_at q 2) e used.1.1.0 x (stand w.in_use w.free_symbol reads (earlier_at o 1) (later_at q 2) agree g.hoist params e used.1.1.0 d.2.1.0), tt))));
  }

nothing-taken : (n : Site) (s : Ledger) (t u : Tree) → Kept (nothing_new (whole_in s)) n.names sealed n.role t u → Outcome (NodesKept n t u) s s
nothing-taken n s t u h = record { given = []; change = sealed; goes = to_list; more = λ y h. h; freer = at-least (whole_in s).free_symbol; range = tt; fresh = λ y o e. absurd (none-some o e); sound = tt; beside = record { pending = refl; this = refl; top = refl }; kept = h }

pub arrow-nodes : (n : Site) (s s' : Ledger) (t u : Tree) → ArrowRule n s (at_node t) s' (at_node u) → Named (whole_in s).in_use (whole_in s).free_symbol n.role t → Outcome (NodesKept n t u) s s'
arrow-nodes n s s' t u (by_name {w = w} {p = p} {a = a} {l = l} {x = x} {s = z} role belongs reaches found in_use low) used = nothing-taken n s t u (subst (λ (r : Role). Kept (nothing_new w) n.names sealed r t u) (sym role) (again-this n.names w l x z found in_use low))
arrow-nodes n s s' t u (by_new_name {w = w} {l = l} {x = x} role belongs reaches fresh) used =
    let k = knowing w x fresh.free in
    record { given = k.given; change = above; goes = to_this; more = k.more; freer = k.freer; range = k.range; fresh = k.fresh; sound = k.sound; beside = record { name = next_name w x; alone = refl; none_before = refl; after = refl; pending = refl; top = refl }; kept = subst (λ (r : Role). Kept k n.names above r t u) (sym role) (new-this n.names w l x fresh.free) }
arrow-nodes n s s' t u (with_body {l = l} {m = m} {ps = ps} {fs = fs} none) used = nothing-taken n s t u (same-body n (whole_in s) l m ps fs used)
arrow-nodes n s s' t u (with_expression {l = l} {ps = ps} {e = e} x none) used = nothing-taken n s t u (new-body n (whole_in s) l ps e x used)

pub arrow-only : (n : Site) (s s' : Ledger) (x y : Spot) → ArrowRule n s x s' y → AtNodes x y
arrow-only n s s' x y (by_name role belongs reaches found in_use low) = tt
arrow-only n s s' x y (by_new_name role belongs reaches fresh) = tt
arrow-only n s s' x y (with_body none) = tt
arrow-only n s s' x y (with_expression e none) = tt

pub arrow-lawful : Lawful ArrowRule
arrow-lawful = nodes-only {R = ArrowRule} arrow-only arrow-nodes
