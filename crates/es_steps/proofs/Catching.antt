-- An optional catch takes a name that the clause binds itself.
use Rattle.std.proofs.Common.{arith, ◌≤◌, ◌<◌, ◌+◌, ◌≡◌, ℕ, refl, sym, ap, ◌∙◌, [], ◌∷◌, ◌++◌}
use Rattle.std.specs.Prelude.{Bool, true, false, ◌||◌, Some, if◌then◌else◌}
use Rattle.std.proofs.Math.Dec.{eqb}
use Rattle.std.proofs.lemmas.Bool.{ne_eqb}
use Rattle.es_tree.specs.Words.{Text}
use Rattle.es_tree.specs.Tree.{Tree, node, Label, Fields, done, ◌then◌, missing, one}
use Rattle.es_tree.specs.declared.ast_type.AstType.TheVariants.{CatchClause}
use Rattle.es_semantic.specs.RolesOf.{reads, role_at}
use Rattle.es_semantic.specs.declared.place.Role.{Role}
use Rattle.es_resolution.specs.Declarations.{Bound, sought, declared}
use Rattle.es_resolution.specs.Resolved.{Place, place_in, or_around}
use Rattle.es_resolution.specs.Named.{Named}
use Rattle.es_resolution.specs.Single.{binds, one_if, scopes_with}
use Rattle.es_steps.specs.Nodes.{identifier}
use Rattle.es_steps.specs.Steps.{Whole, Ledger, Site, Spot}
use Rattle.es_steps.specs.Steps.Spot.{at_node}
use Rattle.es_steps.specs.Rules.{also_all, next_name}
use Rattle.es_steps.specs.OptionalCatch.{CatchRule}
use Rattle.es_steps.specs.OptionalCatch.CatchRule.{catches}
use Rattle.es_resolution.proofs.Basics.{bytes_eq-self}
use Rattle.es_steps.proofs.Kept.{Known, plain, limit, Kept}
use Rattle.es_steps.proofs.Kept.Change.{sealed}
use Rattle.es_resolution.proofs.MoreNames.{named-more, own-more}
use Rattle.es_steps.proofs.OneName.{one-taken, other_name, it-used, knowing, lower, wider}
use Rattle.es_steps.proofs.Scopes.{no-scopes}
use Rattle.es_steps.proofs.Same.{at-most-sealed, same}
use Rattle.es_steps.proofs.Taken.{whole_in, NodesKept, Outcome, Lawful}
use Rattle.es_steps.proofs.RuleLaws.{AtNodes, nodes-only}

abbrev before : Tree → Fields
before body = missing then one body then done

abbrev after : Bound → Tree → Fields
after it body = one (identifier it) then one body then done

abbrev place_before : Role → Place → Label → Tree → Place
place_before r p m body = place_in p CatchClause m (role_at r CatchClause m (before body)) (before body) 1

abbrev place_after : Role → Place → Label → Bound → Tree → Place
place_after r q m it body = place_in q CatchClause m (role_at r CatchClause m (after it body)) (after it body) 1

few : (b : Bool) (d : ℕ) → d ≡ 0 → one_if b + d ≤ 1
few true d e = omega arith
few false d e = omega arith

module _ (w : Whole) (r : Role) (b : Place) (m : Label) (body : Tree) (x : Text) (free : w.in_use x ≡ false) (used : Named w.in_use w.free_symbol r (node CatchClause m (before body))) where
  abbrev it : Bound
  it = next_name w x

  abbrev catching : Known
  catching = knowing w x free

  seen-first : (q : Place) → (place_after r q m it body).scope x ≡ Some w.free_symbol
  seen-first q = rw (bytes_eq-self x)

  not-seen : (q : Place) (y : Text) → w.in_use y ≡ true → (place_after r q m it body).scope y ≡ (place_before r q m body).scope y
  not-seen q y u = rw (other_name w.in_use x y free u)

  agrees : (p q : Place) → ((y : Text) → w.in_use y ≡ true → q.scope y ≡ p.scope y) → (y : Text) → w.in_use y ≡ true → (place_before r q m body).scope y ≡ (place_before r p m body).scope y
  agrees p q a y u = ap (λ o. or_around (sought (declared false reads body ++ []) y) o) (a y u)

  old-scopes : (s : ℕ) (ps : Text → Bool) → s < w.free_symbol → scopes_with s ps r (node CatchClause m (after it body)) ≡ scopes_with s ps r (node CatchClause m (before body))
  old-scopes s ps e = let d : eqb w.free_symbol s ≡ false = ne_eqb w.free_symbol s (λ f. omega arith) in rw d (omega arith)

  new-scopes : (s : ℕ) (ps : Text → Bool) → w.free_symbol ≤ s → scopes_with s ps r (node CatchClause m (after it body)) ≤ limit sealed catching s
  new-scopes s ps e =
      let none = no-scopes w.in_use w.free_symbol s e (λ y. false) reads body used.1.1.0 in
      let most = few (binds s (it ∷ (declared false reads body ++ [])) || false) (scopes_with s (λ y. false) reads body) none in
      at-most-sealed catching s (scopes_with s ps r (node CatchClause m (after it body))) (omega arith)

  caught : Kept catching b sealed r (node CatchClause m (before body)) (node CatchClause m (after it body))
  caught = record {
    kind = refl;
    top = λ e. (λ f. absurd (cc f), λ f. absurd (cc f));
    own = refl;
    lexical = refl;
    hoisted = refl;
    named = (let nb = named-more w.in_use (also_all (it ∷ []) w.in_use) catching.more w.free_symbol (w.free_symbol + 1) (wider w.free_symbol) reads body used.1.1.0 in (own-more w.in_use (also_all (it ∷ []) w.in_use) catching.more w.free_symbol (w.free_symbol + 1) (wider w.free_symbol) r CatchClause m used.0, (((it-used w x free, lower w.free_symbol), tt), (nb, tt))));
    scopes = old-scopes;
    new_scopes = new-scopes;
    resolved = λ p q g s v f d.
        let rb = (same (plain catching) (place_before r p m body) reads body used.1.1.0).resolved (place_before r p m body) (place_after r q m it body) (record { scope = λ y u. not-seen q y u ∙ agrees p q g.scope y u; hoist = g.hoist }) (λ e. record { used = λ y u. refl; new = λ k y o h. refl }) tt (record { scope = refl; parameters = λ e. refl }) d.2.1.0 in
        (tt, refl, (((sym (seen-first q), refl), refl, tt), (rb, tt)));
  }

pub catch-nodes : (n : Site) (s s' : Ledger) (t u : Tree) → CatchRule n s (at_node t) s' (at_node u) → Named (whole_in s).in_use (whole_in s).free_symbol n.role t → Outcome (NodesKept n t u) s s'
catch-nodes n s s' t u (catches {w = w} {p = p} {y = y} {a = a} {m = m} {body = body} {x = x} fresh) used = one-taken p y a w x fresh.free sealed refl (caught w n.role n.names m body x fresh.free used)

pub catch-only : (n : Site) (s s' : Ledger) (x y : Spot) → CatchRule n s x s' y → AtNodes x y
catch-only n s s' x y (catches fresh) = tt

pub catch-lawful : Lawful CatchRule
catch-lawful = nodes-only {R = CatchRule} catch-only catch-nodes
