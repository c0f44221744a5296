-- The pattern of a loop's head moves into the loop's body, to a declaration or an assignment: once for both, and for whatever the word of the
-- declaration binds.
use Rattle.std.proofs.Common.{arith, ◌≤◌, ◌<◌, ◌+◌, ◌≡◌, ℕ, refl, sym, ap, subst, ◌∙◌, List, [], ◌∷◌, ◌++◌}
use Rattle.std.specs.Prelude.{Bool, true, false, ◌||◌, Option, Some, None, codes, if◌then◌else◌}
use Rattle.es_tree.specs.Words.{Text}
use Rattle.es_tree.specs.Names.{first_text}
use Rattle.es_tree.specs.Tree.{Tree, node, Label, Fields, done, ◌then◌, one, statements, empty, ◌before◌, many, missing}
use Rattle.es_tree.specs.declared.ast_type.AstType.{AstType}
use Rattle.es_tree.specs.declared.ast_type.AstType.TheVariants.{BlockStatement, ForInStatement, ForOfStatement, VariableDeclaration, VariableDeclarator}
use Rattle.es_semantic.specs.RolesOf.{reads, role_at, binding_of, refers}
use Rattle.es_semantic.specs.SymbolsOf.{hoists}
use Rattle.es_semantic.specs.declared.place.Binding.{Binding}
use Rattle.es_semantic.specs.declared.place.Binding.TheVariants.{Variable, TopFunction, FunctionName}
use Rattle.es_semantic.specs.declared.place.Role.{Role}
use Rattle.es_semantic.specs.declared.place.Role.TheVariants.{Binds}
use Rattle.es_resolution.specs.Declarations.{Bound, sought, is_lexical, declared}
use Rattle.es_resolution.specs.Resolved.{Place, frame, or_around, no_name, place_in, Resolved}
use Rattle.es_resolution.specs.Named.{Named}
use Rattle.es_resolution.specs.Single.{is_it, binds, own_binds, one_if, scopes_with}
use Rattle.es_steps.specs.Nodes.{made, identifier, declarator_with, declaration_node, declarator, statement_node, assign_node, block_node}
use Rattle.es_steps.specs.Steps.{Whole, Ledger, Site, Spot}
use Rattle.es_steps.specs.Steps.Spot.{at_node}
use Rattle.es_steps.specs.Rules.{next_name}
use Rattle.es_steps.specs.Patterns.{avoiding, IsSilent}
use Rattle.es_steps.specs.LoopHeads.{IsForEach, head_fields, new_head, HeadRest, TargetHead}
use Rattle.es_steps.specs.LoopHeads.IsForEach.{for_in, for_of}
use Rattle.es_steps.specs.LoopHeads.HeadRest.{lexical_head, var_head}
use Rattle.es_steps.specs.LoopHeads.TargetHead.{target_head}
use Rattle.std.specs.List.{list_any}
use Rattle.es_resolution.proofs.Basics.{either_of, sought-append}
use Rattle.es_steps.proofs.CatchRests.{or-none}
use Rattle.es_steps.proofs.Kept.{Change, Known, Each, Adds, SeesIf, Lexical, Hoisted, limit, Kept, AgreeOn}
use Rattle.es_steps.proofs.Kept.Change.{below, sealed}
use Rattle.es_resolution.proofs.MoreNames.{named-more, own-more}
use Rattle.es_steps.proofs.Names.{declared-free}
use Rattle.es_steps.proofs.OneName.{one-taken, knowing, lower, it-found, it-used, not-sought, old-symbol}
use Rattle.es_steps.proofs.RuleLaws.{AtNodes, nodes-only}
use Rattle.es_steps.proofs.Same.{at-most-sealed}
use Rattle.es_steps.proofs.Scopes.{at-most-one, any-declared, it-out, no-scopes}
use Rattle.es_steps.proofs.Stays.{stand, avoids, wider-use}
use Rattle.es_steps.proofs.Taken.{at-least, whole_in, NodesKept, Outcome, Lawful}
use Rattle.es_steps.proofs.Written.{nil-right, body_place}

pub lexical-hoists : (b : Binding) → is_lexical b ≡ true → hoists b ≡ false
lexical-hoists Variable e = absurd (cc e)
lexical-hoists TopFunction e = absurd (cc e)
lexical-hoists FunctionName e = absurd (cc e)
lexical-hoists _ e = refl

pub adds-front : (n : Known) (it : Bound) (bs : List Bound) → ((y : Text) → n.in_use y ≡ true → sought (it ∷ []) y ≡ None) → ((y : Text) (o : Option ℕ) → sought n.given y ≡ Some o → sought (it ∷ []) y ≡ Some o) → ((q : Bound → Bool) → Each (λ b. q b ≡ false) n.given → q it ≡ false) → Adds n bs (it ∷ bs)
adds-front n it bs old new out = record {
  used = λ y u. sought-append (it ∷ []) bs y ∙ ap (λ z. either_of z (sought bs y)) (old y u);
  new = λ y o e. sought-append (it ∷ []) bs y ∙ ap (λ z. either_of z (sought bs y)) (new y o e);
  others = λ q e. ap (λ z. z || list_any q bs) (out q e);
}

four : (bs : List Bound) → (((bs ++ []) ++ []) ++ []) ++ [] ≡ bs
four bs = simp nil-right

front : (ns bs : List Bound) → (((ns ++ []) ++ []) ++ []) ++ bs ≡ ns ++ bs
front ns bs = ap (λ z. z ++ bs) (nil-right ((ns ++ []) ++ []) ∙ nil-right (ns ++ []) ∙ nil-right ns)

nested : (cs bs : List Bound) → ((cs ++ (bs ++ [])) ++ []) ++ [] ≡ cs ++ (bs ++ [])
nested cs bs = simp nil-right

two : (bs : List Bound) → (bs ++ []) ++ [] ≡ bs
two bs = simp nil-right

three : (bs : List Bound) → ((bs ++ []) ++ []) ++ [] ≡ bs
three bs = simp nil-right

-- what a loop assigns to, and what an assignment does
abbrev written : Role
written = refers false true

-- WHAT THE WORD OF THE DECLARATION SAYS: what the head binds afterwards (mine), what it declares by `var` more (news), and how the new name is
-- found
pub record HeadBinds (w : Whole) (x : Text) (free : w.in_use x ≡ false) (c : Change) (b : Binding) (mine news : List Bound) : Type 0 where
  pub own_after : declared false (Binds b) (identifier (next_name w x)) ≡ mine
  pub by_var : declared true (Binds b) (identifier (next_name w x)) ≡ news
  pub unseen : (y : Text) → w.in_use y ≡ true → sought mine y ≡ None
  pub found : (q : Place) → SeesIf c (knowing w x free) q → (if hoists b then q.hoist x else or_around (sought mine x) (q.scope x)) ≡ Some w.free_symbol
  pub seen : (q : Place) → SeesIf c (knowing w x free) q → or_around (sought mine x) (q.scope x) ≡ Some w.free_symbol
  pub lexical : (bs : List Bound) → Lexical c (knowing w x free) bs bs
  pub hoisted : (bs : List Bound) → Hoisted c (knowing w x free) bs (news ++ bs)
  pub old : (s : ℕ) → s < w.free_symbol → binds s mine ≡ false
  pub few : (s : ℕ) → w.free_symbol ≤ s → one_if (binds s mine) ≤ limit c (knowing w x free) s

-- WHAT MOVES: what stands in the head before (head) and in the body afterwards (first), where each binds these names
pub record MovesInto (w : Whole) (x : Text) (free : w.in_use x ≡ false) (own : List Bound) (head first : Tree) : Type 0 where
  pub own_before : declared false written head ≡ own
  pub own_after : declared false reads first ≡ own
  pub by_var : declared true reads first ≡ declared true written head
  pub named : Named (knowing w x free).in_use_after (w.free_symbol + 1) reads first
  pub scopes : (s : ℕ) → scopes_with s no_name reads first ≡ scopes_with s no_name written head
  pub resolved : (o q : Place) → AgreeOn (knowing w x free) o.scope q.scope → AgreeOn (knowing w x free) o.hoist q.hoist → q.scope x ≡ Some w.free_symbol → Resolved written (body_place o) head → Resolved reads (body_place q) first

module _ (n : Site) (w : Whole) (m : Label) (kind : Text) (t u e b : Tree) (x : Text) (free : w.in_use x ≡ false) (c : Change) (own mine news : List Bound) (head : HeadBinds w x free c (binding_of kind) mine news) (moves : MovesInto w x free own t u) (standing-e : Named (avoiding own w.in_use) w.free_symbol reads e) (quiet : IsSilent reads e) (quiet-body : declared false reads b ≡ []) (used : Named w.in_use w.free_symbol n.role (node ForOfStatement m (one t then one e then one b then done))) where
  abbrev it : Bound
  it = next_name w x

  abbrev fs : Fields
  fs = one t then one e then one b then done

  abbrev gs : Fields
  gs = one (declaration_node kind (declarator it ∷ [])) then one e then one (block_node (u before b before empty)) then done

  abbrev block_fs : Fields
  block_fs = statements (u before b before empty) then done

  abbrev place : Place → Fields → ℕ → Place
  place o zs i = place_in o ForOfStatement m (role_at n.role ForOfStatement m zs) zs i

  abbrev block : Place → Place
  block o = place_in (place o gs 2) BlockStatement (made [] []) (role_at reads BlockStatement (made [] []) block_fs) block_fs 0

  frame-before : frame ForOfStatement m (role_at n.role ForOfStatement m fs) fs ≡ own
  frame-before = (λ i. moves.own_before i ++ (quiet false i ++ (quiet-body i ++ []))) ∙ nil-right own

  frame-after : frame ForOfStatement m (role_at n.role ForOfStatement m gs) gs ≡ mine
  frame-after = (λ i. (((head.own_after i ++ []) ++ []) ++ []) ++ (quiet false i ++ [])) ∙ four mine

  frame-block : frame BlockStatement (made [] []) (role_at reads BlockStatement (made [] []) block_fs) block_fs ≡ own
  frame-block = (λ i. (moves.own_after i ++ (quiet-body i ++ [])) ++ []) ∙ two own

  body-agrees : (o q : Place) → ((y : Text) → w.in_use y ≡ true → q.scope y ≡ o.scope y) → (y : Text) → w.in_use y ≡ true → (block q).scope y ≡ (place o fs 0).scope y
  body-agrees o q g y k = (λ i. or_around (sought (frame-block i) y) (or_around (sought (frame-after i) y) (q.scope y))) ∙ (λ i. or_around (sought own y) (or_around (head.unseen y k i) (g y k i))) ∙ sym (λ i. or_around (sought (frame-before i) y) (o.scope y))

  right-agrees : (o q : Place) → ((y : Text) → w.in_use y ≡ true → q.scope y ≡ o.scope y) → (y : Text) → avoiding own w.in_use y ≡ true → (place q gs 1).scope y ≡ (place o fs 1).scope y
  right-agrees o q g y k = let z = avoids own w.in_use y k in (λ i. or_around (sought (frame-after i) y) (q.scope y)) ∙ (λ i. or_around (head.unseen y z.0 i) (g y z.0 i)) ∙ sym ((λ i. or_around (sought (frame-before i) y) (o.scope y)) ∙ (λ i. or_around (z.1 i) (o.scope y)))

  own-lacks : sought own x ≡ None
  own-lacks = sym (λ i. sought (moves.own_before i) x) ∙ declared-free w.in_use w.free_symbol x free false written t used.1.0

  seen-block : (q : Place) → SeesIf c (knowing w x free) q → (block q).scope x ≡ Some w.free_symbol
  seen-block q v = (λ i. or_around (sought (frame-block i) x) (or_around (sought (frame-after i) x) (q.scope x))) ∙ (λ i. or_around (own-lacks i) (head.seen q v i))

  own-before : (s : ℕ) (ps : Text → Bool) → one_if (own_binds s ps ForOfStatement m (role_at n.role ForOfStatement m fs) fs) ≡ one_if (binds s own)
  own-before s ps = (λ i. one_if (binds s (frame-before i) || false)) ∙ or-none s own

  own-after : (s : ℕ) (ps : Text → Bool) → one_if (own_binds s ps ForOfStatement m (role_at n.role ForOfStatement m gs) gs) ≡ one_if (binds s mine)
  own-after s ps = (λ i. one_if (binds s (frame-after i) || false)) ∙ or-none s mine

  own-block : (s : ℕ) (ps : Text → Bool) → one_if (own_binds s ps BlockStatement (made [] []) (role_at reads BlockStatement (made [] []) block_fs) block_fs) ≡ one_if (binds s own)
  own-block s ps = (λ i. one_if (binds s (frame-block i) || false)) ∙ or-none s own

  scopes-before : (s : ℕ) (ps : Text → Bool) → scopes_with s ps n.role (node ForOfStatement m fs) ≡ one_if (binds s own) + (scopes_with s no_name written t + (scopes_with s no_name reads e + scopes_with s no_name reads b))
  scopes-before s ps = let a = own-before s ps in omega arith

  scopes-after : (s : ℕ) (ps : Text → Bool) → scopes_with s ps n.role (node ForOfStatement m gs) ≡ one_if (binds s mine) + (one_if (binds s own) + (scopes_with s no_name written t + (scopes_with s no_name reads e + scopes_with s no_name reads b)))
  scopes-after s ps = let a = own-after s ps in let c = own-block s no_name in let d = moves.scopes s in omega arith

  hoisted-after : declared true n.role (node ForOfStatement m gs) ≡ news ++ declared true n.role (node ForOfStatement m fs)
  hoisted-after =
      let later : List Bound = ((declared true written t ++ (declared true reads b ++ [])) ++ []) ++ [] in
      (λ i. (((head.by_var i ++ []) ++ []) ++ []) ++ (quiet true i ++ (((moves.by_var i ++ (declared true reads b ++ [])) ++ []) ++ [])))
      ∙ front news later
      ∙ ap (λ bs. news ++ bs) (nested (declared true written t) (declared true reads b) ∙ sym (λ i. declared true written t ++ (quiet true i ++ (declared true reads b ++ []))))

  head-kept : Kept (knowing w x free) n.names c n.role (node ForOfStatement m fs) (node ForOfStatement m gs)
  head-kept =
      let k = knowing w x free in
      record {
        kind = refl;
        top = λ e. (λ f. absurd (cc e), λ f. absurd (cc e));
        own = refl;
        lexical = head.lexical [];
        hoisted = subst (λ (bs : List Bound). Hoisted c k (declared true n.role (node ForOfStatement m fs)) bs) (sym hoisted-after) (head.hoisted (declared true n.role (node ForOfStatement m fs)));
        named =
            let ne = named-more w.in_use k.in_use_after k.more w.free_symbol (w.free_symbol + 1) k.freer reads e used.1.1.0 in
            let nb = named-more w.in_use k.in_use_after k.more w.free_symbol (w.free_symbol + 1) k.freer reads b used.1.1.1.0 in
            let ni : ((k.in_use_after x ≡ true) × (w.free_symbol < w.free_symbol + 1)) × Unit {0} = ((it-used w x free, lower w.free_symbol), tt) in
            (own-more w.in_use k.in_use_after k.more w.free_symbol (w.free_symbol + 1) k.freer n.role ForOfStatement m used.0, (((tt, tt), ((((tt, tt), (ni, (tt, tt))), tt), tt)), (ne, (((tt, tt), ((moves.named, (nb, tt)), tt)), tt))));
        scopes = λ s ps f. let a = scopes-before s ps in let c = scopes-after s ps in let d : one_if (binds s mine) ≡ 0 = ap one_if (head.old s f) in omega arith;
        new_scopes = λ s ps f.
            let a = scopes-after s ps in
            let d : one_if (binds s own) ≡ 0 = ap one_if (sym (λ i. binds s (moves.own_before i)) ∙ any-declared w.in_use w.free_symbol (is_it s) (it-out w.in_use w.free_symbol s f) false written t used.1.0) in
            let g = no-scopes w.in_use w.free_symbol s f no_name written t used.1.0 in
            let h = no-scopes w.in_use w.free_symbol s f no_name reads e used.1.1.0 in
            let j = no-scopes w.in_use w.free_symbol s f no_name reads b used.1.1.1.0 in
            let u = head.few s f in
            omega arith;
        resolved = λ o q g ps v h d.
            let rm = moves.resolved (place o fs 0) (block q) (body-agrees o q g.scope) g.hoist (seen-block q v) d.2.0 in
            let re = stand (avoiding own w.in_use) w.free_symbol reads (place o fs 1) (place q gs 1) (right-agrees o q g.scope) (λ y f. g.hoist y (wider-use own w.in_use y f)) (λ y f. refl) e standing-e d.2.1.0 in
            let rb = stand w.in_use w.free_symbol reads (place o fs 2) (block q) (body-agrees o q g.scope) g.hoist (λ y f. refl) b used.1.1.1.0 d.2.1.1.0 in
            (tt, refl, (((tt, refl, (((tt, refl, ((it-right q v, refl, tt), (tt, tt))), tt), tt)), (re, ((tt, refl, ((rm, (rb, tt)), tt)), tt)))));
      }
    where
      it-right : (q : Place) → SeesIf c (knowing w x free) q → (Some w.free_symbol ≡ (if hoists (binding_of kind) then q.hoist x else (place q gs 0).scope x)) × (true ≡ true)
      it-right q v = (sym ((λ i. if hoists (binding_of kind) then q.hoist x else or_around (sought (frame-after i) x) (q.scope x)) ∙ head.found q v), refl)

-- the two kinds of loops bind alike
as-for-in : (k : Known) (o : Place) (c : Change) (r : Role) (m : Label) (t t' e e' b b' : Tree) → Kept k o c r (node ForOfStatement m (one t then one e then one b then done)) (node ForOfStatement m (one t' then one e' then one b' then done)) → Kept k o c r (node ForInStatement m (one t then one e then one b then done)) (node ForInStatement m (one t' then one e' then one b' then done))
as-for-in k o c r m t t' e e' b b' h = record { kind = refl; top = h.top; own = refl; lexical = h.lexical; hoisted = h.hoisted; named = h.named; scopes = h.scopes; new_scopes = h.new_scopes; resolved = λ p q. h.resolved p q }

-- a declaration moves with the value of the new name
declared-into : (w : Whole) (x : Text) (free : w.in_use x ≡ false) (own : List Bound) (l l' : Label) (p : Tree) → declared false (Binds (binding_of (first_text l.texts))) p ≡ own → Named w.in_use w.free_symbol (Binds (binding_of (first_text l.texts))) p →
    MovesInto w x free own (node VariableDeclaration l (many (node VariableDeclarator l' (one p then missing then done) before empty) then done)) (declaration_node (first_text l.texts) (declarator_with p (identifier (next_name w x)) ∷ []))
declared-into w x free own l l' p binds-own used =
    let r : Role = Binds (binding_of (first_text l.texts)) in
    let k = knowing w x free in
    record {
      own_before = (λ i. ((binds-own i ++ []) ++ []) ++ []) ∙ three own;
      own_after = (λ i. ((binds-own i ++ []) ++ []) ++ []) ∙ three own;
      by_var = refl;
      named = let np = named-more w.in_use k.in_use_after k.more w.free_symbol (w.free_symbol + 1) k.freer r p used in ((tt, tt), ((((tt, tt), (np, (((it-used w x free, lower w.free_symbol), tt), tt))), tt), tt));
      scopes = λ s. omega arith;
      resolved = λ o q g h seen d. let rp = stand w.in_use w.free_symbol r (body_place o) (body_place q) g h (λ y f. refl) p used d.2.0.0.2.0 in (tt, refl, (((tt, refl, (rp, ((sym seen, refl, tt), tt))), tt), tt));
    }

module _ (n : Site) (w : Whole) (m : Label) (kind : Text) (t u e b : Tree) (x : Text) (free : w.in_use x ≡ false) (c : Change) (own mine news : List Bound) (head : HeadBinds w x free c (binding_of kind) mine news) (standing-e : Named (avoiding own w.in_use) w.free_symbol reads e) (quiet : IsSilent reads e) (quiet-body : declared false reads b ≡ []) where
  abbrev Leaves : AstType → Type 0
  Leaves k = Kept (knowing w x free) n.names c n.role (node k m (one t then one e then one b then done)) (node k m (one (declaration_node kind (declarator (next_name w x) ∷ [])) then one e then one (block_node (u before b before empty)) then done))

  any-loop : {k : AstType} → IsForEach k → MovesInto w x free own t u → Named w.in_use w.free_symbol n.role (node k m (one t then one e then one b then done)) → Leaves k
  any-loop for_of moves used = head-kept n w m kind t u e b x free c own mine news head moves standing-e quiet quiet-body used
  any-loop for_in moves used = as-for-in (knowing w x free) n.names c n.role m _ _ e e b _ (head-kept n w m kind t u e b x free c own mine news head moves standing-e quiet quiet-body used)

in-head : (u : Text → Bool) (f : ℕ) (r : Role) {k : AstType} (m : Label) (t e b : Tree) → IsForEach k → Named u f r (node k m (one t then one e then one b then done)) → Named u f written t × Named u f reads e
in-head u f r m t e b for_in h = (h.1.0, h.1.1.0)
in-head u f r m t e b for_of h = (h.1.0, h.1.1.0)

module _ (n : Site) (w : Whole) (m l l' : Label) (p e b : Tree) (x : Text) (free : w.in_use x ≡ false) (c : Change) (own mine news : List Bound) (head : HeadBinds w x free c (binding_of (first_text l.texts)) mine news) (binds-own : declared false (Binds (binding_of (first_text l.texts))) p ≡ own) (standing-e : Named (avoiding own w.in_use) w.free_symbol reads e) (quiet : IsSilent reads e) (quiet-body : declared false reads b ≡ []) where
  pub head-loop : {k : AstType} → IsForEach k → Named w.in_use w.free_symbol n.role (node k m (head_fields l l' p e b)) → Kept (knowing w x free) n.names c n.role (node k m (head_fields l l' p e b)) (node k m (new_head (first_text l.texts) (next_name w x) p e b))
  head-loop each used = any-loop n w m (first_text l.texts) _ _ e b x free c own mine news head standing-e quiet quiet-body each (declared-into w x free own l l' p binds-own (in-head w.in_use w.free_symbol n.role m _ e b each used).0.1.0.0.1.0) used

-- THE WORDS

pub lexical-binds : (w : Whole) (x : Text) (free : w.in_use x ≡ false) (b : Binding) → is_lexical b ≡ true → HeadBinds w x free sealed b (next_name w x ∷ []) []
lexical-binds w x free b is_let = record {
  own_after = rw is_let;
  by_var = λ i. (if lexical-hoists b is_let i then next_name w x ∷ [] else []) ++ [];
  unseen = not-sought w x free;
  found = λ q v i. if lexical-hoists b is_let i then q.hoist x else or_around (it-found w x free i) (q.scope x);
  seen = λ q v i. or_around (it-found w x free i) (q.scope x);
  lexical = λ bs. refl;
  hoisted = λ bs. refl;
  old = λ s f i. old-symbol w x free s f i || false;
  few = λ s f. at-most-sealed (knowing w x free) s (one_if (binds s (next_name w x ∷ []))) (at-most-one (binds s (next_name w x ∷ [])));
}

var-binds : (w : Whole) (x : Text) (free : w.in_use x ≡ false) (b : Binding) → b ≡ Variable → HeadBinds w x free below b [] (next_name w x ∷ [])
var-binds w x free b is_var = record {
  own_after = λ i. (if is_lexical (is_var i) then next_name w x ∷ [] else []) ++ [];
  by_var = λ i. (if hoists (is_var i) then next_name w x ∷ [] else []) ++ [];
  unseen = λ y k. refl;
  found = λ q v. (λ i. if hoists (is_var i) then q.hoist x else q.scope x) ∙ v.hoist x (Some w.free_symbol) (it-found w x free);
  seen = λ q v. v.scope x (Some w.free_symbol) (it-found w x free);
  lexical = λ bs. refl;
  hoisted = λ bs. adds-front (knowing w x free) (next_name w x) bs (not-sought w x free) (λ y o e. e) (λ q g. g.0);
  old = λ s f. refl;
  few = λ s f. omega arith;
}

-- where no name is avoided
beside-none : (u : Text → Bool) (f : ℕ) (e : Tree) → Named u f reads e → Named (avoiding [] u) f reads e
beside-none u f e h = named-more u (avoiding [] u) (λ y k. rw k) f f (at-least f) reads e h

-- by another word than `var`
pub lexical-head : (n : Site) (w : Whole) (m l l' : Label) (p e b : Tree) (x : Text) (free : w.in_use x ≡ false) → is_lexical (binding_of (first_text l.texts)) ≡ true → Named (avoiding (declared false (Binds (binding_of (first_text l.texts))) p) w.in_use) w.free_symbol reads e → IsSilent reads e → declared false reads b ≡ [] → {k : AstType} → IsForEach k →
    Named w.in_use w.free_symbol n.role (node k m (head_fields l l' p e b)) → Kept (knowing w x free) n.names sealed n.role (node k m (head_fields l l' p e b)) (node k m (new_head (first_text l.texts) (next_name w x) p e b))
lexical-head n w m l l' p e b x free is_let apart quiet body loop used =
    let word = binding_of (first_text l.texts) in
    head-loop n w m l l' p e b x free sealed (declared false (Binds word) p) (next_name w x ∷ []) [] (lexical-binds w x free word is_let) refl apart quiet body loop used

-- THE RULES

pub head-nodes : (n : Site) (s s' : Ledger) (t u : Tree) → HeadRest n s (at_node t) s' (at_node u) → Named (whole_in s).in_use (whole_in s).free_symbol n.role t → Outcome (NodesKept n t u) s s'
head-nodes n s s' t u (lexical_head {w = w} {s = y} {q = q} {a = a} {m = m} {l = l} {l' = l'} {p = p} {e = e} {b = b} {x = x} loop rest fresh is_let apart quiet body) used = one-taken q y a w x fresh.free sealed refl (lexical-head n w m l l' p e b x fresh.free is_let apart quiet body loop used)
head-nodes n s s' t u (var_head {w = w} {s = y} {q = q} {a = a} {m = m} {l = l} {l' = l'} {p = p} {e = e} {b = b} {x = x} loop rest fresh is_var none quiet body) used =
    let word = binding_of (first_text l.texts) in
    one-taken q y a w x fresh.free below refl (head-loop n w m l l' p e b x fresh.free below [] [] (next_name w x ∷ []) (var-binds w x fresh.free word is_var) (subst (λ (z : Binding). declared false (Binds z) p ≡ []) (sym is_var) none) (beside-none w.in_use w.free_symbol e (in-head w.in_use w.free_symbol n.role m _ e b loop used).1) quiet body loop used)

pub head-only : (n : Site) (s s' : Ledger) (x y : Spot) → HeadRest n s x s' y → AtNodes x y
head-only n s s' x y (lexical_head k rest fresh is_let apart quiet body) = tt
head-only n s s' x y (var_head k rest fresh is_var none quiet body) = tt

pub head-lawful : Lawful HeadRest
head-lawful = nodes-only {R = HeadRest} head-only head-nodes

-- an assignment of the new name to what the head assigned to
assigned-into : (w : Whole) (x : Text) (free : w.in_use x ≡ false) (t : Tree) → IsSilent written t → Named w.in_use w.free_symbol written t → MovesInto w x free [] t (statement_node (assign_node t (identifier (next_name w x))))
assigned-into w x free t silent used =
    let k = knowing w x free in
    record {
      own_before = silent false;
      own_after = λ i. (silent false i ++ []) ++ [];
      by_var = two (declared true written t);
      named = let nt = named-more w.in_use k.in_use_after k.more w.free_symbol (w.free_symbol + 1) k.freer written t used in ((tt, tt), (((tt, tt), (nt, (((it-used w x free, lower w.free_symbol), tt), tt))), tt));
      scopes = λ s. omega arith;
      resolved = λ o q g h seen d. let rt = stand w.in_use w.free_symbol written (body_place o) (body_place q) g h (λ y f. refl) t used d in (tt, refl, ((tt, refl, (rt, ((sym seen, refl, tt), tt))), tt));
    }

pub target-nodes : (n : Site) (s s' : Ledger) (t u : Tree) → TargetHead n s (at_node t) s' (at_node u) → Named (whole_in s).in_use (whole_in s).free_symbol n.role t → Outcome (NodesKept n t u) s s'
target-nodes n s s' t u (target_head {w = w} {s = y} {q = q} {a = a} {m = m} {t = p} {e = e} {b = b} {x = x} loop rest fresh silent quiet body) used =
    let parts = in-head w.in_use w.free_symbol n.role m p e b loop used in
    one-taken q y a w x fresh.free below refl (any-loop n w m (codes "var") p _ e b x fresh.free below [] [] (next_name w x ∷ []) (var-binds w x fresh.free Variable refl) (beside-none w.in_use w.free_symbol e parts.1) quiet body loop (assigned-into w x fresh.free p silent parts.0) used)

pub target-only : (n : Site) (s s' : Ledger) (x y : Spot) → TargetHead n s x s' y → AtNodes x y
target-only n s s' x y (target_head k rest fresh silent quiet body) = tt

pub target-lawful : Lawful TargetHead
target-lawful = nodes-only {R = TargetHead} target-only target-nodes
