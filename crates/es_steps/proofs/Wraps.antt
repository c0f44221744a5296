-- WRAP of a block.
use Rattle.std.proofs.Common.{arith, ◌≤◌, ◌<◌, ◌+◌, ◌≡◌, ℕ, refl, sym, ap, subst, ◌∙◌, List, [], ◌∷◌, ◌++◌}
use Rattle.std.specs.Prelude.{Bool, true, false, ◌||◌, Option, Some, None, bytes_eq, codes, if◌then◌else◌}
use Rattle.std.proofs.lemmas.Bool.{ne_eqb, eqb-true}
use Rattle.es_tree.specs.Words.{Text}
use Rattle.es_tree.specs.Fresh.{also}
use Rattle.es_tree.specs.Names.{first_text}
use Rattle.es_tree.specs.References.{is_symbol}
use Rattle.es_tree.specs.Tree.{Tree, node, Label, Fields, done, ◌then◌, one, statements, Trees, empty, ◌before◌}
use Rattle.es_tree.specs.declared.ast_type.AstType.TheVariants.{BlockStatement, CatchClause, VariableDeclaration, VariableDeclarator}
use Rattle.es_semantic.specs.RolesOf.{reads, role_at, binding_of}
use Rattle.es_semantic.specs.declared.place.Binding.TheVariants.{Constant}
use Rattle.es_semantic.specs.declared.place.Role.{Role}
use Rattle.es_semantic.specs.declared.place.Role.TheVariants.{Binds}
use Rattle.es_resolution.specs.Declarations.{Bound, symbol_of, sought, declared, declared_among}
use Rattle.es_resolution.specs.Resolved.{Place, or_around, no_name, place_in, ResolvedAll}
use Rattle.es_resolution.specs.Named.{IsBelow, OwnUsed, Named, NamedAll}
use Rattle.es_resolution.specs.Single.{is_it, binds, own_binds, one_if, scopes_with, scopes_among}
use Rattle.es_steps.specs.Nodes.{made, identifier, word, assign_node, member_node, call_node, block_node, statement_node, declarator_with, declaration_node}
use Rattle.es_steps.specs.Open.{Pending, Additions}
use Rattle.es_steps.specs.Steps.{Whole, Ledger, ledger, Site, Spot}
use Rattle.es_steps.specs.Steps.Spot.{at_node}
use Rattle.es_steps.specs.Rules.{next_name}
use Rattle.es_steps.specs.UsingBlocks.{method_call, UsedAll, Constants, error_name, error_of, with_context, protected, block_of, BlockUsing}
use Rattle.es_steps.specs.UsingBlocks.UsedAll.{no_more, uses}
use Rattle.es_steps.specs.UsingBlocks.Constants.{ended, stays, using}
use Rattle.es_steps.specs.UsingBlocks.BlockUsing.{of_block, of_part}
use Rattle.es_resolution.proofs.Basics.{bytes_eq-self, or_true, either_of, sought-append}
use Rattle.es_steps.proofs.Heads.{adds-front}
use Rattle.es_steps.proofs.Kept.{Change, Known, Adds, Agree, limit, Kept}
use Rattle.es_steps.proofs.Kept.Change.{below}
use Rattle.es_resolution.proofs.MoreNames.{named-more, own-more}
use Rattle.es_steps.proofs.Names.{declared-free-all}
use Rattle.es_steps.proofs.OneName.{it-found, not-sought, sought-it}
use Rattle.es_steps.proofs.RuleLaws.{AtNodes, nodes-only}
use Rattle.es_steps.proofs.Scopes.{any-all, it-out, no-scopes-all}
use Rattle.es_steps.proofs.Stays.{stand}
use Rattle.es_steps.proofs.Taken.{at-least, whole_in, NodesKept, After, Outcome, Lawful}
use Rattle.es_steps.proofs.Taken.Goes.{to_list}
use Rattle.es_steps.proofs.Written.{nil-right, body_place}

pub wider-by-two : (m : ℕ) → m ≤ m + 2
wider-by-two m = omega arith

pub lower-by-two : (m : ℕ) → m < m + 2
lower-by-two m = omega arith

pub one-more : (m : ℕ) → m + 1 < m + 2
one-more m = omega arith

call-flat : (xs es : List Bound) → xs ++ (((es ++ []) ++ []) ++ []) ≡ xs ++ (es ++ [])
call-flat xs es = simp nil-right

module _ (w : Whole) (x : Text) (free : w.in_use x ≡ false) where
  abbrev pub c : Bound
  c = next_name w x

  abbrev pub in_use_after : Text → Bool
  in_use_after = also error_name (also x w.in_use)

  pub c-used : in_use_after x ≡ true
  c-used = or_true (also x w.in_use x) (bytes_eq error_name x) (rw (free, bytes_eq-self x))

  abbrev pub k : Known
  k = record { in_use = w.in_use; in_use_after = in_use_after; given = c ∷ []; free = w.free_symbol; free_after = w.free_symbol + 2; more = λ y e. or_true (also x w.in_use y) (bytes_eq error_name y) (or_true (w.in_use y) (bytes_eq x y) e); freer = wider-by-two w.free_symbol; range = ((at-least w.free_symbol, lower-by-two w.free_symbol), tt); fresh = λ y o e. sought-it w x free (bytes_eq x y) y o refl e; sound = ((it-found w x free, refl, c-used), tt) }

  -- a list in which the context is read
  pub record Rewritten (r : Role) (ts us : Trees) : Type 0 where
    pub lists : (v : Bool) → declared_among v r us ≡ declared_among v r ts
    pub named : NamedAll w.in_use w.free_symbol r ts → NamedAll in_use_after (w.free_symbol + 2) r us
    pub scopes : (s : ℕ) (ps : Text → Bool) → scopes_among s ps r us ≡ scopes_among s ps r ts
    pub resolved : (o q : Place) → Agree k o q → ((y : Text) → w.in_use y ≡ true → q.parameters y ≡ o.parameters y) → q.scope x ≡ Some w.free_symbol → NamedAll w.in_use w.free_symbol r ts → ResolvedAll r o ts → ResolvedAll r q us

  more : (r : Role) (t : Tree) → Named w.in_use w.free_symbol r t → Named in_use_after (w.free_symbol + 2) r t
  more r t h = named-more w.in_use in_use_after k.more w.free_symbol (w.free_symbol + 2) k.freer r t h

  pub used-all : (ds es : Trees) → UsedAll c ds es → Rewritten (Binds Constant) ds es
  used-all ds es no_more = record { lists = λ v. refl; named = λ h. tt; scopes = λ s ps. refl; resolved = λ o q a b e h d. tt }
  used-all ds es (uses {l = l} {x = y} {e = e} {ds = ds2} {es = es2} rest) =
      let h = used-all ds2 es2 rest in
      record {
        lists = each h;
        named = λ u. ((own-more w.in_use in_use_after k.more w.free_symbol (w.free_symbol + 2) k.freer (Binds Constant) VariableDeclarator l u.0.0, (more (Binds Constant) y u.0.1.0, (((tt, tt), (((tt, tt), (((c-used, lower-by-two w.free_symbol), tt), (((tt, tt), tt), tt))), ((more reads e u.0.1.1.0, tt), tt))), tt))), h.named u.1);
        scopes = λ s ps. let g = h.scopes s ps in omega arith;
        resolved = λ o q a b f u d.
            let ry = stand w.in_use w.free_symbol (Binds Constant) (body_place o) (body_place q) a.scope a.hoist (λ z g. refl) y u.0.1.0 d.0.2.0 in
            let re = stand w.in_use w.free_symbol reads (body_place o) (body_place q) a.scope a.hoist (λ z g. refl) e u.0.1.1.0 d.0.2.1.0 in
            ((tt, refl, (ry, ((tt, refl, ((tt, refl, ((sym f, refl, tt), ((tt, refl, tt), tt))), ((re, tt), tt))), tt))), h.resolved o q a b f u.1 d.1);
      }
    where
      each : Rewritten (Binds Constant) ds2 es2 → (v : Bool) → declared_among v (Binds Constant) es ≡ declared_among v (Binds Constant) ds
      each h true = λ i. call-flat (declared true (Binds Constant) y) (declared true reads e) i ++ h.lists true i
      each h false = λ i. call-flat (declared false (Binds Constant) y) (declared false reads e) i ++ h.lists false i

  pub constants : (ts us : Trees) → Constants c ts us → Rewritten reads ts us
  constants ts us ended = record { lists = λ v. refl; named = λ h. tt; scopes = λ s ps. refl; resolved = λ o q a b e h d. tt }
  constants ts us (stays {t = t} {ts = ts2} {us = us2} other rest) =
      let h = constants ts2 us2 rest in
      record {
        lists = λ v i. declared v reads t ++ h.lists v i;
        named = λ u. (more reads t u.0, h.named u.1);
        scopes = λ s ps i. scopes_with s ps reads t + h.scopes s ps i;
        resolved = λ o q a b e u d. (stand w.in_use w.free_symbol reads o q a.scope a.hoist b t u.0 d.0, h.resolved o q a b e u.1 d.1);
      }
  constants ts us (using {l = l} {ds = ds} {es = es} {ts = ts2} {us = us2} texts all rest) =
      let h = constants ts2 us2 rest in
      let g = used-all ds es all in
      record {
        lists = each h g;
        named = λ u. (((tt, (own-more w.in_use in_use_after k.more w.free_symbol (w.free_symbol + 2) k.freer reads VariableDeclaration l u.0.0).1), (g.named (subst (λ (z : Role). NamedAll w.in_use w.free_symbol z ds) role u.0.1.0), tt)), h.named u.1);
        scopes = λ s ps. let a = h.scopes s ps in let b = g.scopes s no_name in let e : scopes_among s no_name (Binds (binding_of (first_text l.texts))) ds ≡ scopes_among s no_name (Binds Constant) ds = ap (λ z. scopes_among s no_name z ds) role in omega arith;
        resolved = λ o q a b e u d. ((tt, refl, (g.resolved (body_place o) (body_place q) (record { scope = a.scope; hoist = a.hoist }) (λ y f. refl) e (subst (λ (z : Role). NamedAll w.in_use w.free_symbol z ds) role u.0.1.0) (subst (λ (z : Role). ResolvedAll z (body_place o) ds) role d.0.2.0), tt)), h.resolved o q a b e u.1 d.1);
      }
    where
      role : Binds (binding_of (first_text l.texts)) ≡ Binds Constant
      role = λ i. Binds (binding_of (first_text (texts i)))

      each : Rewritten reads ts2 us2 → Rewritten (Binds Constant) ds es → (v : Bool) → declared_among v reads us ≡ declared_among v reads ts
      each h g true = λ i. ((g.lists true ∙ sym (ap (λ z. declared_among true z ds) role)) i ++ []) ++ h.lists true i
      each h g false = λ i. ((g.lists false ∙ sym (ap (λ z. declared_among false z ds) role)) i ++ []) ++ h.lists false i

  -- THE BLOCK

  module _ (b : Place) (r : Role) (m : Label) (ts us : Trees) (other : bytes_eq error_name x ≡ false) (changed : Rewritten reads ts us) (helpers : (place_in b BlockStatement m (role_at r BlockStatement m (statements ts then done)) (statements ts then done) 0).scope (codes "babelHelpers") ≡ None) (helpers-used : w.in_use (codes "babelHelpers") ≡ true) (used : Named w.in_use w.free_symbol r (block_of m ts)) where
    abbrev u : Bound
    u = error_of w

    abbrev bs : Fields
    bs = statements ts then done

    abbrev helper : Tree
    helper = call_node (member_node (word (codes "babelHelpers")) (codes "usingCtx")) []

    abbrev cs : Fields
    cs = statements (declaration_node (codes "var") (declarator_with (identifier c) helper ∷ []) before us) then done

    abbrev made_block : Fields → Tree
    made_block zs = node BlockStatement (made [] []) zs

    abbrev clause_list : Trees
    clause_list = statement_node (assign_node (member_node (identifier c) (codes "e")) (identifier u)) before empty

    abbrev clause : Fields
    clause = one (identifier u) then one (block_node clause_list) then done

    abbrev inside : Place → Place
    inside o = place_in o BlockStatement m (role_at r BlockStatement m bs) bs 0

    abbrev inside_after : Place → Place
    inside_after q = place_in (body_place q) BlockStatement (made [] []) (role_at reads BlockStatement (made [] []) cs) cs 0

    agrees : (o q : Place) → ((y : Text) → w.in_use y ≡ true → q.scope y ≡ o.scope y) → (y : Text) → w.in_use y ≡ true → (inside_after q).scope y ≡ (inside o).scope y
    agrees o q g y f = λ i. or_around (sought (changed.lists false i ++ []) y) (g y f i)

    c-seen : (q : Place) → q.scope x ≡ Some w.free_symbol → (inside_after q).scope x ≡ Some w.free_symbol
    c-seen q g = (λ i. or_around (sought (changed.lists false i ++ []) x) (g i)) ∙ (λ i. or_around ((sought-append (declared_among false reads ts) [] x ∙ ap (λ z. either_of z None) (declared-free-all w.in_use w.free_symbol x free false reads ts used.1.0)) i) (Some w.free_symbol))

    own-before : (s : ℕ) (ps : Text → Bool) → one_if (own_binds s ps BlockStatement m (role_at r BlockStatement m bs) bs) ≡ one_if (binds s (declared_among false reads ts ++ []) || false)
    own-before s ps = refl

    own-after : (s : ℕ) (ps : Text → Bool) → one_if (own_binds s ps BlockStatement (made [] []) (role_at reads BlockStatement (made [] []) cs) cs) ≡ one_if (binds s (declared_among false reads ts ++ []) || false)
    own-after s ps = λ i. one_if (binds s (changed.lists false i ++ []) || false)

    own-clause : (s : ℕ) (ps : Text → Bool) → one_if (own_binds s ps CatchClause (made [] []) (role_at reads CatchClause (made [] []) clause) clause) ≡ one_if (is_it s u)
    own-clause s ps = at (is_it s u)
      where
        at : (b : Bool) → one_if ((b || false) || false) ≡ one_if b
        at true = refl
        at false = refl

    counts : (s : ℕ) (ps : Text → Bool) → scopes_with s ps r (protected c u us) ≡ one_if (is_it s u) + scopes_with s ps r (node BlockStatement m bs)
    counts s ps =
        let a = own-before s ps in
        let b = own-after s no_name in
        let d = own-clause s no_name in
        let e = changed.scopes s no_name in
        omega arith

    before-none : (s : ℕ) (ps : Text → Bool) → w.free_symbol ≤ s → scopes_with s ps r (node BlockStatement m bs) ≡ 0
    before-none s ps f =
        let a = own-before s ps in
        let e = no-scopes-all w.in_use w.free_symbol s f no_name reads ts used.1.0 in
        let g : one_if (binds s (declared_among false reads ts ++ []) || false) ≡ 0 = ap (λ z. one_if (z || false)) (ap (λ z. binds s z) (nil-right (declared_among false reads ts)) ∙ any-all w.in_use w.free_symbol (is_it s) (it-out w.in_use w.free_symbol s f) false reads ts used.1.0) in
        omega arith

    few-new : (s : ℕ) → w.free_symbol ≤ s → one_if (is_it s u) ≤ limit below k s
    few-new s f = at (is_symbol s (Some w.free_symbol)) refl
      where
        once : (b : Bool) → one_if b ≤ 1
        once true = omega arith
        once false = omega arith

        at : (b : Bool) → is_symbol s (Some w.free_symbol) ≡ b → one_if (is_it s u) ≤ (if b || false then 0 else 1)
        at false e = once (is_it s u)
        at true e = let same : w.free_symbol ≡ s = eqb-true w.free_symbol s e in let d : is_it s u ≡ false = ne_eqb (w.free_symbol + 1) s (λ g. omega arith) in none-at-all (is_it s u) d
          where
            none-at-all : (b : Bool) → b ≡ false → one_if b ≤ 0
            none-at-all true d = absurd (cc d)
            none-at-all false d = omega arith

    pub wrapped : Kept k b below r (node BlockStatement m bs) (protected c u us)
    wrapped = record {
      kind = refl;
      top = λ e. absurd (cc e);
      own = refl;
      lexical = refl;
      hoisted = subst (λ (z : List Bound). Adds k (declared true r (node BlockStatement m bs)) z) (sym var-after) (adds-front k c (declared true r (node BlockStatement m bs)) (not-sought w x free) (λ y o e. e) (λ q g. g.0));
      named = ((tt, tt), (named-block, (named-clause, (named-end, tt))));
      scopes = λ s ps e. let a = counts s ps in let b : one_if (is_it s u) ≡ 0 = ap one_if (ne_eqb (w.free_symbol + 1) s (λ g. omega arith)) in omega arith;
      new_scopes = λ s ps e. at-limit s ps (counts s ps) (before-none s ps e) (few-new s e);
      resolved = λ o q g ps v f d.
          let seen = v.scope x (Some w.free_symbol) (it-found w x free) in
          let rl = changed.resolved (inside o) (inside_after q) (record { scope = agrees o q g.scope; hoist = g.hoist }) (λ y e. refl) (c-seen q seen) used.1.0 d.2.0 in
          let no-helpers : (inside_after q).scope (codes "babelHelpers") ≡ None = agrees o q g.scope (codes "babelHelpers") helpers-used ∙ (λ i. or_around (sought (declared_among false reads ts ++ []) (codes "babelHelpers")) (f.scope i (codes "babelHelpers"))) ∙ helpers in
          let past : (clause-place q).scope x ≡ Some w.free_symbol = (λ i. or_around (if other i then Some (Some (w.free_symbol + 1)) else None) (q.scope x)) ∙ seen in (
            tt,
            refl,
            (
              (tt, refl, (((tt, refl, (((tt, refl, (((sym (v.hoist x (Some w.free_symbol) (it-found w x free)), refl), refl, tt), ((tt, refl, ((tt, refl, ((sym no-helpers, refl, tt), ((tt, refl, tt), tt))), (tt, tt))), tt))), tt), tt)), rl), tt)),
              (
                (tt, refl, (((refl, refl), refl, tt), ((tt, refl, (((tt, refl, ((tt, refl, ((tt, refl, ((sym past, refl, tt), ((tt, refl, tt), tt))), ((refl, refl, tt), tt))), tt)), tt), tt)), tt))),
                ((tt, refl, (((tt, refl, ((tt, refl, ((tt, refl, ((sym seen, refl, tt), ((tt, refl, tt), tt))), (tt, tt))), tt)), tt), tt)), tt),
              ),
            ),
          );
    }
      where
        clause-place : Place → Place
        clause-place q = place_in (body_place q) CatchClause (made [] []) (role_at reads CatchClause (made [] []) clause) clause 1

        at-limit : (s : ℕ) (ps : Text → Bool) → scopes_with s ps r (protected c u us) ≡ one_if (is_it s u) + scopes_with s ps r (node BlockStatement m bs) → scopes_with s ps r (node BlockStatement m bs) ≡ 0 → one_if (is_it s u) ≤ limit below k s → scopes_with s ps r (protected c u us) ≤ limit below k s
        at-limit s ps a b e = omega arith

        var-after : declared true r (protected c u us) ≡ c ∷ declared true r (node BlockStatement m bs)
        var-after = ap (λ z. c ∷ z) ((λ i. (changed.lists true i ++ []) ++ []) ∙ nil-right (declared_among true reads ts ++ []))

        ci : ((in_use_after x ≡ true) × (w.free_symbol < w.free_symbol + 2)) × Unit {0}
        ci = ((c-used, lower-by-two w.free_symbol), tt)

        ui : ((in_use_after error_name ≡ true) × (w.free_symbol + 1 < w.free_symbol + 2)) × Unit {0}
        ui = ((or-second (also x w.in_use error_name), one-more w.free_symbol), tt)
          where
            or-second : (b : Bool) → (b || true) ≡ true
            or-second true = refl
            or-second false = refl

        named-block : Named in_use_after (w.free_symbol + 2) reads (made_block cs)
        named-block = ((tt, tt), ((((tt, tt), ((((tt, tt), (ci, (((tt, tt), (((tt, tt), (((k.more (codes "babelHelpers") helpers-used, tt), tt), (((tt, tt), tt), tt))), (tt, tt))), tt))), tt), tt)), changed.named used.1.0), tt))

        named-clause : Named in_use_after (w.free_symbol + 2) reads (node CatchClause (made [] []) clause)
        named-clause = ((tt, tt), (ui, (((tt, tt), ((((tt, tt), (((tt, tt), (((tt, tt), (ci, (((tt, tt), tt), tt))), (ui, tt))), tt)), tt), tt)), tt)))

        named-end : Named in_use_after (w.free_symbol + 2) reads (block_node (statement_node (method_call c (codes "d") []) before empty))
        named-end = ((tt, tt), ((((tt, tt), (((tt, tt), (((tt, tt), (ci, (((tt, tt), tt), tt))), (tt, tt))), tt)), tt), tt))

-- a block that stays, with the `try` in it
within-block : (n : Known) (b : Place) (r : Role) (m : Label) (ts us : Trees) (c u : Bound) → OwnUsed n.in_use_after r BlockStatement m × IsBelow n.free_after (symbol_of m) → Kept n b below r (block_of m ts) (protected c u us) → Kept n b below r (block_of m ts) (block_of m (protected c u us before empty))
within-block n b r m ts us c u own h = record {
  kind = refl;
  top = h.top;
  own = refl;
  lexical = refl;
  hoisted = subst (λ (z : List Bound). Adds n (declared true r (block_of m ts)) z) (sym (nil-right (declared true reads (protected c u us) ++ []) ∙ nil-right (declared true reads (protected c u us)))) h.hoisted;
  named = (own, ((h.named, tt), tt));
  scopes = λ s ps e. same s ps ∙ h.scopes s ps e;
  new_scopes = λ s ps e. subst (λ (z : ℕ). z ≤ limit below n s) (sym (same s ps)) (h.new_scopes s ps e);
  resolved = λ p q a s v f d. (tt, refl, ((h.resolved p q a s v f d, tt), tt));
}
  where
    same : (s : ℕ) (ps : Text → Bool) → scopes_with s ps r (block_of m (protected c u us before empty)) ≡ scopes_with s ps r (protected c u us)
    same s ps = omega arith

-- what comes of a rule that makes a context
pub taking : (w : Whole) (x : Text) (free : w.in_use x ≡ false) (q : Pending) (y : Option Bound) (a : Additions) (K : Known → Change → Type 0) (c : Change) → After c to_list (next_name w x ∷ []) (ledger w q y a) (ledger (with_context x w) q y a) → K (k w x free) c → Outcome K (ledger w q y a) (ledger (with_context x w) q y a)
taking w x free q y a K c after h =
    let z = k w x free in
    record { given = z.given; change = c; goes = to_list; more = z.more; freer = z.freer; range = z.range; fresh = z.fresh; sound = z.sound; beside = after; kept = h }

pub block-nodes : (n : Site) (s s' : Ledger) (t u : Tree) → BlockUsing n s (at_node t) s' (at_node u) → Named (whole_in s).in_use (whole_in s).free_symbol n.role t → Outcome (NodesKept n t u) s s'
block-nodes n s s' t u (of_block {w = w} {q = q} {y = y} {a = a} {m = m} {ts = ts} {us = us} {c = x} place some takes h) used =
    taking w x takes.fresh.free q y a (NodesKept n t u) below (record { pending = refl; this = refl; top = refl }) (wrapped w x takes.fresh.free n.names n.role m ts us takes.other (constants w x takes.fresh.free ts us h) takes.helpers takes.helpers_used used)
block-nodes n s s' t u (of_part {w = w} {q = q} {y = y} {a = a} {m = m} {ts = ts} {us = us} {c = x} place some takes h) used =
    let z = k w x takes.fresh.free in
    taking w x takes.fresh.free q y a (NodesKept n t u) below (record { pending = refl; this = refl; top = refl }) (within-block z n.names n.role m ts us (next_name w x) (error_of w) (own-more w.in_use z.in_use_after z.more w.free_symbol z.free_after z.freer n.role BlockStatement m used.0) (wrapped w x takes.fresh.free n.names n.role m ts us takes.other (constants w x takes.fresh.free ts us h) takes.helpers takes.helpers_used used))

pub block-only : (n : Site) (s s' : Ledger) (x y : Spot) → BlockUsing n s x s' y → AtNodes x y
block-only n s s' x y (of_block place some takes h) = tt
block-only n s s' x y (of_part place some takes h) = tt

pub block-lawful : Lawful BlockUsing
block-lawful = nodes-only {R = BlockUsing} block-only block-nodes
