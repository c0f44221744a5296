-- Arrows that get a body: names keep their bindings.
use Rattle.std.proofs.Common.{arith, ◌≤◌, ◌<◌, ◌≡◌, ℕ, refl, sym, ◌∙◌, List, [], ◌++◌}
use Rattle.std.specs.Prelude.{Bool, true, false, ◌||◌, Option}
use Rattle.es_tree.specs.Words.{Text}
use Rattle.es_tree.specs.Tree.{Tree, node, Label, Fields, done, ◌then◌, one, many, Trees}
use Rattle.es_tree.specs.declared.ast_type.AstType.TheVariants.{ArrowFunctionExpression, Identifier}
use Rattle.es_semantic.specs.RolesOf.{reads, role_at}
use Rattle.es_semantic.specs.declared.place.Role.TheVariants.{Binds}
use Rattle.es_semantic.specs.declared.place.Binding.TheVariants.{Class, Parameter}
use Rattle.es_resolution.specs.Declarations.{Bound, sought, declared_among}
use Rattle.es_resolution.specs.Resolved.{Place, frame, or_around, bound_by, no_name, place_in}
use Rattle.es_resolution.specs.Named.{Named}
use Rattle.es_resolution.specs.Single.{binds, own_binds, one_if, scopes_with, scopes_among}
use Rattle.es_steps.specs.Identifiers.{Passes}
use Rattle.es_steps.specs.Open.{is_import}
use Rattle.es_steps.specs.Steps.{Ledger, Site, Spot, Whole, IsExpression}
use Rattle.es_steps.specs.Steps.Spot.{at_node}
use Rattle.es_steps.proofs.Bodies.{full, in-full, full-scopes, scopes-params}
use Rattle.es_steps.proofs.Kept.{limit, Kept}
use Rattle.es_steps.proofs.Kept.Change.{sealed}
use Rattle.es_steps.proofs.RuleLaws.{AtNodes, nodes-only}
use Rattle.es_steps.proofs.RulesWrite.{writes-nodes}
use Rattle.es_steps.proofs.Scopes.{no-scopes}
use Rattle.es_steps.proofs.Stays.{stand, stand-all}
use Rattle.es_steps.proofs.Taken.{Allows, Lawful, LedgerPasses, NodesKept, Outcome, Writes, at-least, none-some, nothing_new, whole_in}
use Rattle.es_steps.proofs.Taken.Goes.{to_list}
use Rattle.es_arrow_bodies.specs.ArrowBodies.{BodyRule}
use Rattle.es_arrow_bodies.specs.ArrowBodies.BodyRule.{returns}

-- THE ARROW with its body

abbrev arrow_fields : Trees → Tree → Fields
arrow_fields ps b = many ps then one b then done

no-more : (a b : ℕ) → a ≡ 0 → a ≤ b
no-more a b e = omega arith

module _ (n : Site) (w : Whole) (l : Label) (ps : Trees) (e : Tree) (x : IsExpression e) (used : Named w.in_use w.free_symbol n.role (node ArrowFunctionExpression l (arrow_fields ps e))) where
  abbrev whole_body : Tree
  whole_body = full [] [] e

  abbrev frame_before : List Bound
  frame_before = frame ArrowFunctionExpression l (role_at n.role ArrowFunctionExpression l (arrow_fields ps e)) (arrow_fields ps e)

  abbrev frame_after : List Bound
  frame_after = frame ArrowFunctionExpression l (role_at n.role ArrowFunctionExpression l (arrow_fields ps whole_body)) (arrow_fields ps whole_body)

  frames-same : frame_after ≡ frame_before
  frames-same = sym (λ i. declared_among false (Binds Parameter) ps ++ (x.declares_nothing false i ++ []))

  abbrev earlier_at : Place → ℕ → Place
  earlier_at o i = place_in o ArrowFunctionExpression l (role_at n.role ArrowFunctionExpression l (arrow_fields ps e)) (arrow_fields ps e) i

  abbrev later_at : Place → ℕ → Place
  later_at q i = place_in q ArrowFunctionExpression l (role_at n.role ArrowFunctionExpression l (arrow_fields ps whole_body)) (arrow_fields ps whole_body) i

  ends-agree : (o q : Place) → ((y : Text) → w.in_use y ≡ true → q.scope y ≡ o.scope y) → (y : Text) → w.in_use y ≡ true → (later_at q 0).scope y ≡ (earlier_at o 0).scope y
  ends-agree o q g y k = λ i. or_around (sought (frames-same i) y) (g y k i)

  ends-same : (y : Text) → w.in_use y ≡ true → bound_by frame_after y ≡ bound_by frame_before y
  ends-same y k = λ i. bound_by (frames-same i) y

  count-same : (s : ℕ) (z : Text → Bool) → scopes_with s z n.role (node ArrowFunctionExpression l (arrow_fields ps whole_body)) ≡ scopes_with s z n.role (node ArrowFunctionExpression l (arrow_fields ps e))
  count-same s z =
      let a : one_if (own_binds s z ArrowFunctionExpression l (role_at n.role ArrowFunctionExpression l (arrow_fields ps whole_body)) (arrow_fields ps whole_body)) ≡ one_if (own_binds s z ArrowFunctionExpression l (role_at n.role ArrowFunctionExpression l (arrow_fields ps e)) (arrow_fields ps e)) = (λ i. one_if (binds s (frames-same i) || false)) in
      let b : scopes_among s (bound_by frame_after) (Binds Parameter) ps ≡ scopes_among s (bound_by frame_before) (Binds Parameter) ps = (λ i. scopes_among s (bound_by (frames-same i)) (Binds Parameter) ps) in
      let c = full-scopes (nothing_new w) s (bound_by frame_after) e x in
      let d = scopes-params s (bound_by frame_before) no_name reads e x.no_body in
      omega arith

  new-body : Kept (nothing_new w) n.names sealed n.role (node ArrowFunctionExpression l (arrow_fields ps e)) (node ArrowFunctionExpression l (arrow_fields ps whole_body))
  new-body = record {
    kind = refl;
    top = λ e. (λ f. absurd (cc f), λ f. absurd (cc f));
    own = refl;
    lexical = refl;
    hoisted = sym (λ i. declared_among true (Binds Parameter) ps ++ (x.declares_nothing true i ++ []));
    named = (used.0, (used.1.0, (((tt, tt), (tt, ((((tt, tt), (used.1.1.0, tt)), tt), tt))), tt)));
    scopes = λ s z d. count-same s z;
    new_scopes = λ s z d. let a = no-scopes w.in_use w.free_symbol s d z n.role (node ArrowFunctionExpression l (arrow_fields ps e)) used in let c = count-same s z in no-more (scopes_with s z n.role (node ArrowFunctionExpression l (arrow_fields ps whole_body))) (limit sealed (nothing_new w) s) (c ∙ a);
    resolved = λ o q g z v h d.
        let agree = ends-agree o q g.scope in
        let params = ends-same in
        (tt, refl, (stand-all w.in_use w.free_symbol (Binds Parameter) (earlier_at o 0) (later_at q 0) agree g.hoist params ps used.1.0 d.2.0, (in-full (nothing_new w) (later_at q 1) e used.1.1.0 x (stand w.in_use w.free_symbol reads (earlier_at o 1) (later_at q 1) agree g.hoist params e used.1.1.0 d.2.1.0), tt)));
  }

-- THE RULE

nothing-taken : (n : Site) (s : Ledger) (t u : Tree) → Kept (nothing_new (whole_in s)) n.names sealed n.role t u → Outcome (NodesKept n t u) s s
nothing-taken n s t u h = record { given = []; change = sealed; goes = to_list; more = λ y h. h; freer = at-least (whole_in s).free_symbol; range = tt; fresh = λ y o e. absurd (none-some o e); sound = tt; beside = record { pending = refl; this = refl; top = refl }; kept = h }

pub body-only : (n : Site) (s s' : Ledger) (x y : Spot) → BodyRule n s x s' y → AtNodes x y
body-only n s s' x y (returns e) = tt

pub body-lawful : Lawful BodyRule
body-lawful = nodes-only {R = BodyRule} body-only nodes
  where
    nodes : (n : Site) (s s' : Ledger) (t u : Tree) → BodyRule n s (at_node t) s' (at_node u) → Named (whole_in s).in_use (whole_in s).free_symbol n.role t → Outcome (NodesKept n t u) s s'
    nodes n s s' t u (returns {l = l} {ps = ps} {e = e} x) used = nothing-taken n s t u (new-body n (whole_in s) l ps e x used)

pub body-writes : Writes BodyRule
body-writes = writes-nodes {R = BodyRule} (record { only = body-only; imports = imports; no_names = none; freer = grows; same_called = called; names = names })
  where
    imports : (n : Site) (s s' : Ledger) (t u : Tree) → BodyRule n s (at_node t) s' (at_node u) → is_import u ≡ is_import t
    imports n s s' t u (returns x) = refl

    none : (n : Site) (s s' : Ledger) (l : Label) (fs : Fields) (u : Tree) → n.role ≡ Binds Class → BodyRule n s (at_node (node Identifier l fs)) s' (at_node u) → ⊥
    none n s s' l fs u e h = elim h [ ]

    grows : (n : Site) (s s' : Ledger) (t u : Tree) → BodyRule n s (at_node t) s' (at_node u) → (whole_in s).free_symbol ≤ (whole_in s').free_symbol
    grows n s s' t u (returns x) = at-least (whole_in s).free_symbol

    called : (n : Site) (s s' : Ledger) (t u : Tree) → BodyRule n s (at_node t) s' (at_node u) → (m : ℕ) → m < (whole_in s).free_symbol → (whole_in s').called m ≡ (whole_in s).called m
    called n s s' t u (returns x) m e = refl

    names : (q : Text → Option ℕ → Bool) (n : Site) (s s' : Ledger) (t u : Tree) → Allows q (whole_in s) (whole_in s') → LedgerPasses q s → BodyRule n s (at_node t) s' (at_node u) → Passes q t → Passes q u × LedgerPasses q s'
    names q n s s' t u a b (returns x) k = ((tt, (k.1.0, ((tt, (tt, (((tt, (k.1.1.0, tt)), tt), tt))), tt))), b)
