-- The pattern of a catch clause moves into a `let` of a block of its own.
use Rattle.std.proofs.Common.{arith, ◌<◌, ◌+◌, ◌≡◌, ℕ, refl, sym, ap, ◌∙◌, List, [], ◌∷◌, ◌++◌}
use Rattle.std.specs.Prelude.{Bool, true, false, ◌||◌, Some, None, if◌then◌else◌}
use Rattle.es_tree.specs.Words.{Text}
use Rattle.es_tree.specs.References.{is_symbol}
use Rattle.es_tree.specs.Tree.{Tree, node, Label, Fields, done, ◌then◌, one, statements, Trees, empty, ◌before◌}
use Rattle.es_tree.specs.declared.ast_type.AstType.TheVariants.{CatchClause, BlockStatement}
use Rattle.es_semantic.specs.RolesOf.{reads, role_at}
use Rattle.es_semantic.specs.declared.place.Role.TheVariants.{Binds}
use Rattle.es_semantic.specs.declared.place.Binding.TheVariants.{CatchParameter, Let}
use Rattle.es_resolution.specs.Declarations.{Bound, sought, declared}
use Rattle.es_resolution.specs.Resolved.{Place, frame, no_name, place_in, or_around}
use Rattle.es_resolution.specs.Named.{Named}
use Rattle.es_resolution.specs.Single.{binds, own_binds, one_if, scopes_with}
use Rattle.es_steps.specs.Nodes.{made, identifier, block_node}
use Rattle.es_steps.specs.Steps.{Whole, Ledger, Site, Spot}
use Rattle.es_steps.specs.Steps.Spot.{at_node}
use Rattle.es_steps.specs.Rules.{next_name}
use Rattle.es_steps.specs.Patterns.{let_statement}
use Rattle.es_steps.specs.CatchPatterns.{CatchRest}
use Rattle.es_steps.specs.CatchPatterns.CatchRest.{moves}
use Rattle.es_steps.proofs.Alike.{AlikeRole, declared-alike, resolved-alike, named-alike, scopes-alike}
use Rattle.es_steps.proofs.Alike.AlikeRole.{either}
use Rattle.es_steps.proofs.Kept.{plain, Kept}
use Rattle.es_steps.proofs.Kept.Change.{sealed}
use Rattle.es_resolution.proofs.MoreNames.{named-more, own-more}
use Rattle.es_steps.proofs.Names.{declared-free}
use Rattle.es_steps.proofs.Scopes.{at-most-one, no-scopes, any-declared, it-out}
use Rattle.es_steps.proofs.Same.{at-most-sealed, same}
use Rattle.es_steps.proofs.Written.{nil-right}
use Rattle.es_steps.proofs.RuleLaws.{AtNodes, nodes-only}
use Rattle.es_steps.proofs.Taken.{whole_in, NodesKept, Outcome, Lawful}
use Rattle.es_steps.proofs.OneName.{one-taken, knowing, lower, it-found, it-used, not-sought, old-symbol}

pub catch-let : AlikeRole (Binds CatchParameter) (Binds Let)
catch-let = either (record { asked = refl; hoists_not = refl }) (record { asked = refl; hoists_not = refl })

abbrev before_it : Tree → Tree → Fields
before_it p b = one p then one b then done

abbrev block_list : Tree → Bound → Tree → Trees
block_list p it b = let_statement p it before b before empty

abbrev after_it : Tree → Bound → Tree → Fields
after_it p it b = one (identifier it) then one (block_node (block_list p it b)) then done

pub nils : (bs : List Bound) → ((((bs ++ []) ++ []) ++ []) ++ []) ++ [] ≡ bs
nils bs = simp nil-right

nest : (cs bs : List Bound) → (((((cs ++ []) ++ []) ++ []) ++ (bs ++ [])) ++ []) ++ [] ≡ cs ++ (bs ++ [])
nest cs bs = simp nil-right

pub or-none : (s : ℕ) (bs : List Bound) → one_if (binds s bs || false) ≡ one_if (binds s bs)
or-none s bs = at (binds s bs)
  where
    at : (c : Bool) → one_if (c || false) ≡ one_if c
    at true = refl
    at false = refl

module _ (n : Site) (w : Whole) (m l : Label) (p : Tree) (bs : Trees) (x : Text) (free : w.in_use x ≡ false) (used : Named w.in_use w.free_symbol n.role (node CatchClause m (before_it p (node BlockStatement l (statements bs then done))))) where
  abbrev it : Bound
  it = next_name w x

  abbrev b : Tree
  b = node BlockStatement l (statements bs then done)

  abbrev bound : List Bound
  bound = declared false (Binds CatchParameter) p

  abbrev clause : Place → Place
  clause o = place_in o CatchClause m (role_at n.role CatchClause m (before_it p b)) (before_it p b) 1

  abbrev clause_after : Place → Place
  clause_after o = place_in o CatchClause m (role_at n.role CatchClause m (after_it p it b)) (after_it p it b) 1

  abbrev block_fields : Fields
  block_fields = statements (block_list p it b) then done

  abbrev block_place : Place → Place
  block_place o = place_in (clause_after o) BlockStatement (made [] []) (role_at reads BlockStatement (made [] []) block_fields) block_fields 0

  same-bound : declared false (Binds Let) p ≡ bound
  same-bound = sym (declared-alike false catch-let p)

  frame-before : frame CatchClause m (role_at n.role CatchClause m (before_it p b)) (before_it p b) ≡ bound
  frame-before = nil-right bound

  frame-after : frame BlockStatement (made [] []) (role_at reads BlockStatement (made [] []) block_fields) block_fields ≡ bound
  frame-after = (λ i. ((((same-bound i ++ []) ++ []) ++ []) ++ []) ++ []) ∙ nils bound

  agrees : (o q : Place) → ((y : Text) → w.in_use y ≡ true → q.scope y ≡ o.scope y) → (y : Text) → w.in_use y ≡ true → (block_place q).scope y ≡ (clause o).scope y
  agrees o q a y u = (λ i. or_around (sought (frame-after i) y) (or_around (not-sought w x free y u i) (a y u i))) ∙ sym (λ i. or_around (sought (frame-before i) y) (o.scope y))

  lacks : sought bound x ≡ None
  lacks = declared-free w.in_use w.free_symbol x free false (Binds CatchParameter) p used.1.0

  seen : (q : Place) → (block_place q).scope x ≡ Some w.free_symbol
  seen q = (λ i. or_around (sought (frame-after i) x) (or_around (it-found w x free i) (q.scope x))) ∙ (λ i. or_around (lacks i) (Some w.free_symbol))

  same-vars : declared true (Binds Let) p ≡ declared true (Binds CatchParameter) p
  same-vars = sym (declared-alike true catch-let p)

  hoisted-after : declared true n.role (node CatchClause m (after_it p it b)) ≡ declared true n.role (node CatchClause m (before_it p b))
  hoisted-after = (λ i. ((((((same-vars i ++ []) ++ []) ++ []) ++ (declared true reads b ++ [])) ++ []) ++ [])) ∙ nest (declared true (Binds CatchParameter) p) (declared true reads b)

  scopes-p : (s : ℕ) → scopes_with s no_name (Binds Let) p ≡ scopes_with s no_name (Binds CatchParameter) p
  scopes-p s = sym (scopes-alike s no_name catch-let p)

  own-before : (s : ℕ) (ps : Text → Bool) → one_if (own_binds s ps CatchClause m (role_at n.role CatchClause m (before_it p b)) (before_it p b)) ≡ one_if (binds s bound)
  own-before s ps = (λ i. one_if (binds s (frame-before i) || false)) ∙ or-none s bound

  own-after : (s : ℕ) (ps : Text → Bool) → one_if (own_binds s ps CatchClause m (role_at n.role CatchClause m (after_it p it b)) (after_it p it b)) ≡ one_if (binds s (it ∷ []))
  own-after s ps = or-none s (it ∷ [])

  own-block : (s : ℕ) (ps : Text → Bool) → one_if (own_binds s ps BlockStatement (made [] []) (role_at reads BlockStatement (made [] []) block_fields) block_fields) ≡ one_if (binds s bound)
  own-block s ps = (λ i. one_if (binds s (frame-after i) || false)) ∙ or-none s bound

  before-count : (s : ℕ) (ps : Text → Bool) → scopes_with s ps n.role (node CatchClause m (before_it p b)) ≡ one_if (binds s bound) + (scopes_with s no_name (Binds CatchParameter) p + scopes_with s no_name reads b)
  before-count s ps = let e = own-before s ps in omega arith

  after-count : (s : ℕ) (ps : Text → Bool) → scopes_with s ps n.role (node CatchClause m (after_it p it b)) ≡ one_if (binds s (it ∷ [])) + (one_if (binds s bound) + (scopes_with s no_name (Binds CatchParameter) p + scopes_with s no_name reads b))
  after-count s ps = let e = own-after s ps in let f = own-block s no_name in let g = scopes-p s in omega arith

  pub caught : Kept (knowing w x free) n.names sealed n.role (node CatchClause m (before_it p b)) (node CatchClause m (after_it p it b))
  caught =
      let k = knowing w x free in
      record {
        kind = refl;
        top = λ e. (λ f. absurd (cc f), λ f. absurd (cc f));
        own = refl;
        lexical = refl;
        hoisted = hoisted-after;
        named =
            let np = named-alike k.in_use_after (w.free_symbol + 1) catch-let p (named-more w.in_use k.in_use_after k.more w.free_symbol (w.free_symbol + 1) k.freer (Binds CatchParameter) p used.1.0) in
            let nb = named-more w.in_use k.in_use_after k.more w.free_symbol (w.free_symbol + 1) k.freer reads b used.1.1.0 in
            let ni : ((k.in_use_after x ≡ true) × (w.free_symbol < w.free_symbol + 1)) × Unit {0} = ((it-used w x free, lower w.free_symbol), tt) in
            (own-more w.in_use k.in_use_after k.more w.free_symbol (w.free_symbol + 1) k.freer n.role CatchClause m used.0, (ni, (((tt, tt), ((((tt, tt), ((((tt, tt), (np, (ni, tt))), tt), tt)), (nb, tt)), tt)), tt)));
        scopes = λ s ps e. let a = before-count s ps in let c = after-count s ps in let d : one_if (binds s (it ∷ [])) ≡ 0 = (λ i. one_if (old-symbol w x free s e i || false)) in omega arith;
        new_scopes = λ s ps e.
            let c = after-count s ps in
            let d : one_if (binds s bound) ≡ 0 = ap one_if (any-declared w.in_use w.free_symbol (λ z. is_symbol s z.symbol) (it-out w.in_use w.free_symbol s e) false (Binds CatchParameter) p used.1.0) in
            let f = no-scopes w.in_use w.free_symbol s e no_name (Binds CatchParameter) p used.1.0 in
            let g = no-scopes w.in_use w.free_symbol s e no_name reads b used.1.1.0 in
            let h = at-most-one (binds s (it ∷ [])) in
            at-most-sealed k s (scopes_with s ps n.role (node CatchClause m (after_it p it b))) (omega arith);
        resolved = λ o q a ps v h d.
            let rp = (same (plain k) (clause o) (Binds CatchParameter) p used.1.0).resolved (clause o) (block_place q) (record { scope = agrees o q a.scope; hoist = a.hoist }) (λ e. record { used = λ y u. refl; new = λ f y o g. refl }) tt (record { scope = refl; parameters = λ e. refl }) d.2.0 in
            let rb = (same (plain k) (clause o) reads b used.1.1.0).resolved (clause o) (block_place q) (record { scope = agrees o q a.scope; hoist = a.hoist }) (λ e. record { used = λ y u. refl; new = λ f y o g. refl }) tt (record { scope = refl; parameters = λ e. refl }) d.2.1.0 in
            (tt, refl, (((sym (it-seen q), refl), refl, tt), ((tt, refl, (((tt, refl, (((tt, refl, (resolved-alike catch-let (block_place q) p rp, ((sym (seen q), refl, tt), tt))), tt), tt)), (rb, tt)), tt)), tt)));
      }
    where
      it-seen : (q : Place) → (clause_after q).scope x ≡ Some w.free_symbol
      it-seen q = λ i. or_around (it-found w x free i) (q.scope x)

pub catch-rest-nodes : (n : Site) (s s' : Ledger) (t u : Tree) → CatchRest n s (at_node t) s' (at_node u) → Named (whole_in s).in_use (whole_in s).free_symbol n.role t → Outcome (NodesKept n t u) s s'
catch-rest-nodes n s s' t u (moves {w = w} {s = y} {q = q} {a = a} {m = m} {l = l} {p = p} {bs = bs} {x = x} rest fresh) used = one-taken q y a w x fresh.free sealed refl (caught n w m l p bs x fresh.free used)

pub catch-rest-only : (n : Site) (s s' : Ledger) (x y : Spot) → CatchRest n s x s' y → AtNodes x y
catch-rest-only n s s' x y (moves rest fresh) = tt

pub catch-rest-lawful : Lawful CatchRest
catch-rest-lawful = nodes-only {R = CatchRest} catch-rest-only catch-rest-nodes
