-- The wrap rule is lawful.
use Rattle.std.proofs.Common.{arith, ◌≤◌, ◌<◌, ◌≡◌, ℕ, refl, sym, ap, subst, ◌∙◌, List, [], ◌∷◌, ◌++◌}
use Rattle.std.specs.Prelude.{Bool, true, false, ◌||◌, Option}
use Rattle.es_tree.specs.Tree.{Tree, node, Label, Fields, done, ◌then◌, one, many, empty}
use Rattle.es_tree.specs.Words.{Text}
use Rattle.es_tree.specs.declared.ast_type.AstType.TheVariants.{ArrowFunctionExpression, Identifier}
use Rattle.es_tree.specs.declared.options.EnvOptions.{EnvOptions}
use Rattle.es_semantic.specs.RolesOf.{reads, role_at}
use Rattle.es_semantic.specs.declared.place.Binding.TheVariants.{Class}
use Rattle.es_semantic.specs.declared.place.Role.{Role}
use Rattle.es_semantic.specs.declared.place.Role.TheVariants.{Binds}
use Rattle.es_resolution.specs.Declarations.{sought, declared}
use Rattle.es_resolution.specs.Named.{Named}
use Rattle.es_resolution.specs.Resolved.{Place, no_name, parameters_in, frame, or_around, place_in}
use Rattle.es_resolution.specs.Single.{binds, own_binds, one_if, scopes_with}
use Rattle.es_steps.specs.Identifiers.{Passes}
use Rattle.es_steps.specs.Nodes.{made}
use Rattle.es_steps.specs.Open.{is_import, Pending, with_vars}
use Rattle.es_steps.specs.Steps.{Whole, Ledger, Site, Spot, IsExpression}
use Rattle.es_steps.specs.Steps.Spot.{at_node}
use Rattle.es_steps.specs.WrapRule.{called_arrow, WrapRule}
use Rattle.es_steps.specs.WrapRule.WrapRule.{wraps}
use Rattle.es_steps.proofs.Bodies.{moved, own-reads, scopes-params}
use Rattle.es_steps.proofs.Kept.{Kept}
use Rattle.es_steps.proofs.Kept.Change.{above}
use Rattle.es_steps.proofs.RuleLaws.{AtNodes, nodes-only}
use Rattle.es_steps.proofs.Same.{same}
use Rattle.es_steps.proofs.Scopes.{no-scopes}
use Rattle.es_steps.proofs.Taken.{at-least, none-some, whole_in, pending_in, nothing_new, NodesKept, Outcome, Lawful, Writes, Allows, LedgerPasses}
use Rattle.es_steps.proofs.RulesWrite.{writes-nodes}
use Rattle.es_steps.proofs.Taken.Goes.{to_list}
use Rattle.es_steps.proofs.Written.{body_place}

abbrev arrow_fields : Tree → Fields
arrow_fields e = many empty then one e then done

abbrev arrow_roles : Tree → ℕ → Role
arrow_roles e = role_at reads ArrowFunctionExpression (made [] []) (arrow_fields e)

wrapped-declares : (v : Bool) (e : Tree) → declared v reads e ≡ [] → declared v reads (called_arrow e) ≡ []
wrapped-declares true e h = rw h
wrapped-declares false e h = refl

no-frame : (e : Tree) → declared false reads e ≡ [] → frame ArrowFunctionExpression (made [] []) (arrow_roles e) (arrow_fields e) ≡ []
no-frame e h = rw h

abbrev arrow_place : Place → Tree → Place
arrow_place q e = place_in (body_place q) ArrowFunctionExpression (made [] []) (arrow_roles e) (arrow_fields e) 1

arrow-agrees : (q : Place) (e : Tree) → IsExpression e → (y : Text) → (arrow_place q e).scope y ≡ q.scope y
arrow-agrees q e x y = λ i. or_around (sought (no-frame e (x.declares_nothing false) i) y) (q.scope y)

wrapped-scopes : (s : ℕ) (ps : Text → Bool) (e : Tree) → IsExpression e → scopes_with s ps reads (called_arrow e) ≡ scopes_with s ps reads e
wrapped-scopes s ps e x =
    let inner = scopes-params s (parameters_in ArrowFunctionExpression (made [] []) (arrow_roles e) (arrow_fields e)) ps reads e x.no_body in
    let none : binds s (frame ArrowFunctionExpression (made [] []) (arrow_roles e) (arrow_fields e)) ≡ false = ap (λ bs. binds s bs) (no-frame e (x.declares_nothing false)) in
    let own : one_if (own_binds s no_name ArrowFunctionExpression (made [] []) (arrow_roles e) (arrow_fields e)) ≡ 0 = ap (λ b. one_if (b || false)) none in
    omega arith

wrapped-law : (b : Place) (w : Whole) (e : Tree) → IsExpression e → Named w.in_use w.free_symbol reads e → Kept (nothing_new w) b above reads e (called_arrow e)
wrapped-law b w e x used = record {
  kind = sym x.no_body;
  top = λ e. (λ f. absurd (cc f), λ f. absurd (cc f));
  own = sym (own-reads e);
  lexical = wrapped-declares false e (x.declares_nothing false) ∙ sym (x.declares_nothing false);
  hoisted = wrapped-declares true e (x.declares_nothing true) ∙ sym (x.declares_nothing true);
  named = ((tt, tt), (((tt, tt), (tt, (used, tt))), (tt, tt)));
  scopes = λ s ps d. wrapped-scopes s ps e x;
  new_scopes = λ s ps d. let none = no-scopes w.in_use w.free_symbol s d ps reads e used in let same = wrapped-scopes s ps e x in omega arith;
  resolved = λ p q g s v f d.
      let re = (same (nothing_new w) p reads e used).resolved p q (record { scope = g.scope; hoist = g.hoist }) (λ c. absurd (cc (c, x.no_body))) tt (record { scope = refl; parameters = λ k. refl }) d in
      (tt, refl, ((tt, refl, (tt, (moved (nothing_new w) q (arrow_place q e).hoist (arrow_place q e).parameters (arrow_place q e).scope e (arrow-agrees q e x) used x re, tt))), (tt, tt)));
}

no-trees : (ts : List Tree) → ts ++ [] ≡ ts
no-trees [] = refl
no-trees (t ∷ ts) = ap (λ us. t ∷ us) (no-trees ts)

pub with-none : (p : Pending) → p ≡ with_vars [] p
with-none p = λ i. record p { vars = sym (no-trees p.vars) i }

wraps-nodes : (o : EnvOptions) (n : Site) (s s' : Ledger) (x y : Spot) → WrapRule o n s x s' y → AtNodes x y
wraps-nodes o n s s' x y (wraps d e slot h) = tt

pub wrap-lawful : (o : EnvOptions) → Lawful (WrapRule o)
wrap-lawful o = nodes-only {R = WrapRule o} (wraps-nodes o) nodes
  where
    nodes : (n : Site) (s s' : Ledger) (t u : Tree) → WrapRule o n s (at_node t) s' (at_node u) → Named (whole_in s).in_use (whole_in s).free_symbol n.role t → Outcome (NodesKept n t u) s s'
    nodes n s s' t u (wraps {e = e} d x slot h) used = record { given = []; change = above; goes = to_list; more = λ y h. h; freer = at-least (whole_in s).free_symbol; range = tt; fresh = λ y o f. absurd (none-some o f); sound = tt; beside = record { pending = with-none (pending_in s); this = refl; top = refl }; kept = subst (λ (r : Role). Kept (nothing_new (whole_in s)) n.names above r e (called_arrow e)) (sym d) (wrapped-law n.names (whole_in s) e x (subst (λ (r : Role). Named (whole_in s).in_use (whole_in s).free_symbol r e) d used)) }

pub wrap-writes : (o : EnvOptions) → Writes (WrapRule o)
wrap-writes o = writes-nodes {R = WrapRule o} (record { only = wraps-nodes o; imports = imports; no_names = none; freer = grows; same_called = called; names = names })
  where
    imports : (n : Site) (s s' : Ledger) (t u : Tree) → WrapRule o n s (at_node t) s' (at_node u) → is_import u ≡ is_import t
    imports n s s' t u (wraps d x slot h) = sym x.no_import

    none : (n : Site) (s s' : Ledger) (l : Label) (fs : Fields) (u : Tree) → n.role ≡ Binds Class → WrapRule o n s (at_node (node Identifier l fs)) s' (at_node u) → ⊥
    none n s s' l fs u e (wraps d x slot h) = let z : reads ≡ Binds Class = sym d ∙ e in absurd (cc z)

    grows : (n : Site) (s s' : Ledger) (t u : Tree) → WrapRule o n s (at_node t) s' (at_node u) → (whole_in s).free_symbol ≤ (whole_in s').free_symbol
    grows n s s' t u (wraps d x slot h) = at-least (whole_in s).free_symbol

    called : (n : Site) (s s' : Ledger) (t u : Tree) → WrapRule o n s (at_node t) s' (at_node u) → (m : ℕ) → m < (whole_in s).free_symbol → (whole_in s').called m ≡ (whole_in s).called m
    called n s s' t u (wraps d x slot h) m e = refl

    names : (q : Text → Option ℕ → Bool) (n : Site) (s s' : Ledger) (t u : Tree) → Allows q (whole_in s) (whole_in s') → LedgerPasses q s → WrapRule o n s (at_node t) s' (at_node u) → Passes q t → Passes q u × LedgerPasses q s'
    names q n s s' t u a b (wraps d x slot h) k = ((tt, ((tt, (tt, (k, tt))), (tt, tt))), b)
