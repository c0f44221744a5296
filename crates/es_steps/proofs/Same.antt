-- What stays is kept, and lists of fields and of trees keep what one of them keeps.
use Rattle.std.proofs.Common.{arith, ◌≤◌, ◌+◌, ◌≡◌, ℕ, zero, suc, refl, List, []}
use Rattle.std.specs.Prelude.{Bool, true, false, is_some, if◌then◌else◌}
use Rattle.es_tree.specs.Children.{child_at}
use Rattle.es_tree.specs.Tree.{Tree, node, Fields, done, ◌then◌, Field, missing, one, many, statements, Trees, empty, ◌before◌}
use Rattle.es_semantic.specs.RolesOf.{role_at}
use Rattle.es_semantic.specs.declared.place.Role.{Role}
use Rattle.es_resolution.specs.Declarations.{Bound, declared, declared_in, declared_by, declared_among}
use Rattle.es_resolution.specs.Resolved.{Place, place_in}
use Rattle.es_resolution.specs.Named.{Named, NamedIn, NamedBy, NamedAll}
use Rattle.es_resolution.specs.Single.{binds, scopes_with, scopes_in, scopes_by, scopes_among}
use Rattle.es_steps.proofs.Scopes.{no-scopes, no-scopes-in, no-scopes-by, no-scopes-all}
use Rattle.es_steps.proofs.Kept.{Change, Known, plain, Agree, SameParameters, Looks, SeesIf, SeesIn, limit, few, Kept, KeptIn, KeptBy, KeptAll, every}
use Rattle.es_steps.proofs.Kept.Change.{above, below, lexed, sealed}
use Rattle.es_steps.proofs.Names.{declared-free, declared-free-by, declared-free-all}
use Rattle.es_steps.proofs.Nodes.{Lacks, hoisted-left, hoisted-right, lexical-left, lexical-right, some-left, some-right, kept-node}

at-most : (a b m : ℕ) → a ≤ m → b ≡ 0 → a + b ≤ m
at-most a b m e d = omega arith

at-most-after : (a b m : ℕ) → b ≤ m → a ≡ 0 → a + b ≤ m
at-most-after a b m e d = omega arith

sees-first : (c : Change) (n : Known) (qs : ℕ → Place) → SeesIn c n zero qs → SeesIf c n (qs zero)
sees-first above n qs v = v zero
sees-first below n qs v = v zero
sees-first lexed n qs v = v
sees-first sealed n qs v = tt

sees-later : (c : Change) (n : Known) (i : ℕ) (qs : ℕ → Place) → SeesIn c n (suc i) qs → SeesIn c n i (λ j. qs (suc j))
sees-later above n i qs v = λ j. v (suc j)
sees-later below n i qs v = λ j. v (suc j)
sees-later lexed n i qs v = v
sees-later sealed n i qs v = tt

pub of-tree : {v : Bool} {b p : Place} → Looks true b p → Looks v b p
of-tree e = record { scope = e.scope; parameters = λ f. e.parameters refl }

pub at-most-sealed : (n : Known) (s m : ℕ) → m ≤ 1 → m ≤ limit sealed n s
at-most-sealed n s m h = at (binds s n.given)
  where
    at : (b : Bool) → m ≤ (if b then 1 else 1)
    at true = h
    at false = h

pub at-most-once : (c : Change) (n : Known) (s m : ℕ) → m ≤ limit c n s → m ≤ 1
at-most-once c n s m h = at (binds s n.given) h
  where
    by : (c : Change) → m ≤ few c → m ≤ 1
    by above h = omega arith
    by below h = omega arith
    by lexed h = omega arith
    by sealed h = h

    at : (b : Bool) → m ≤ (if b then few c else 1) → m ≤ 1
    at true h = by c h
    at false h = h

none-at-most : (s m : ℕ) → 0 ≤ m
none-at-most s m = omega arith

module _ (n : Known) where
  pub plain-agree : (p q : Place) → Agree n p q → Agree (plain n) p q
  plain-agree p q a = record { scope = a.scope; hoist = a.hoist }

  pub any-parameters : (c : Change) (p q : Place) → SameParameters c n p q → SameParameters sealed (plain n) p q
  any-parameters c p q s = record { used = s.used; new = λ f y o e. absurd (cc e) }

  lacks-if : (b : Bool) (bs : List Bound) → Lacks n bs → Lacks n (if b then bs else [])
  lacks-if true bs h = h
  lacks-if false bs h = λ y o e. refl

  pub lacks-by : (v : Bool) (r : Role) (f : Field) → NamedBy n.in_use n.free r f → Lacks n (declared_by v r f)
  lacks-by v r f h y o e = declared-free-by n.in_use n.free y (n.fresh y o e) v r f h

  pub lacks-tree : (v : Bool) (r : Role) (t : Tree) → Named n.in_use n.free r t → Lacks n (declared v r t)
  lacks-tree v r t h y o e = declared-free n.in_use n.free y (n.fresh y o e) v r t h

  pub lacks-all : (v : Bool) (r : Role) (ts : Trees) → NamedAll n.in_use n.free r ts → Lacks n (declared_among v r ts)
  lacks-all v r ts h y o e = declared-free-all n.in_use n.free y (n.fresh y o e) v r ts h

  pub left-fields : (bs : ℕ → Place) (c : Change) (roles : ℕ → Role) (f g : Field) (fs : Fields) → NamedIn n.in_use n.free (λ i. roles (suc i)) fs → KeptBy n (bs zero) c (roles zero) f g → KeptIn (plain n) (λ i. bs (suc i)) sealed (λ i. roles (suc i)) fs fs → KeptIn n bs c roles (f then fs) (g then fs)
  left-fields bs c roles f g fs rest h t = record {
    spot = zero;
    shape = shape;
    own = h.own;
    lexical = λ counts. some-left c n (counts zero) (declared_in false (λ i. counts (suc i)) (λ i. roles (suc i)) fs) (declared_by false (roles zero) f) (declared_by false (roles zero) g) h.lexical;
    hoisted = hoisted-left c n (declared_in true every (λ i. roles (suc i)) fs) (declared_by true (roles zero) f) (declared_by true (roles zero) g) h.hoisted;
    named = (h.named, t.named);
    scopes = λ s ps e j. h.scopes s ps e j + scopes_in s ps (λ i. roles (suc i)) fs;
    new_scopes = λ s ps e. at-most (scopes_by s ps (roles zero) g) (scopes_in s ps (λ i. roles (suc i)) fs) (limit c n s) (h.new_scopes s ps e) (no-scopes-in n.in_use n.free s e ps (λ i. roles (suc i)) fs rest);
    resolved = λ ps qs a s v e d. (h.resolved (ps zero) (qs zero) (a zero) (s zero) (sees-first c n qs v) (e zero) d.0, t.resolved (λ i. ps (suc i)) (λ i. qs (suc i)) (λ i. plain-agree (ps (suc i)) (qs (suc i)) (a (suc i))) (λ i. any-parameters c (ps (suc i)) (qs (suc i)) (s (suc i))) tt (λ i. e (suc i)) d.1);
  }
    where
      shape : (i : ℕ) → is_some (child_at i (g then fs)) ≡ is_some (child_at i (f then fs))
      shape zero = h.shape
      shape (suc i) = refl

  pub right-fields : (bs : ℕ → Place) (c : Change) (roles : ℕ → Role) (f : Field) (fs gs : Fields) → NamedBy n.in_use n.free (roles zero) f → KeptBy (plain n) (bs zero) sealed (roles zero) f f → KeptIn n (λ i. bs (suc i)) c (λ i. roles (suc i)) fs gs → KeptIn n bs c roles (f then fs) (f then gs)
  right-fields bs c roles f fs gs used h t = record {
    spot = suc t.spot;
    shape = shape;
    own = refl;
    lexical = λ counts. some-right c n (counts (suc t.spot)) (if counts zero then declared_by false (roles zero) f else []) (declared_in false (λ i. counts (suc i)) (λ i. roles (suc i)) fs) (declared_in false (λ i. counts (suc i)) (λ i. roles (suc i)) gs) (lacks-if (counts zero) (declared_by false (roles zero) f) (lacks-by false (roles zero) f used)) (t.lexical (λ i. counts (suc i)));
    hoisted = hoisted-right c n (declared_by true (roles zero) f) (declared_in true every (λ i. roles (suc i)) fs) (declared_in true every (λ i. roles (suc i)) gs) (lacks-by true (roles zero) f used) t.hoisted;
    named = (h.named, t.named);
    scopes = λ s ps e j. scopes_by s ps (roles zero) f + t.scopes s ps e j;
    new_scopes = λ s ps e. at-most-after (scopes_by s ps (roles zero) f) (scopes_in s ps (λ i. roles (suc i)) gs) (limit c n s) (t.new_scopes s ps e) (no-scopes-by n.in_use n.free s e ps (roles zero) f used);
    resolved = λ ps qs a s v e d. (h.resolved (ps zero) (qs zero) (plain-agree (ps zero) (qs zero) (a zero)) (any-parameters c (ps zero) (qs zero) (s zero)) tt (e zero) d.0, t.resolved (λ i. ps (suc i)) (λ i. qs (suc i)) (λ i. a (suc i)) (λ i. s (suc i)) (sees-later c n t.spot qs v) (λ i. e (suc i)) d.1);
  }
    where
      shape : (i : ℕ) → is_some (child_at i (f then gs)) ≡ is_some (child_at i (f then fs))
      shape zero = refl
      shape (suc i) = t.shape i

  pub as-one : (b : Place) (c : Change) (r : Role) (t u : Tree) → Kept n b c r t u → KeptBy n b c r (one t) (one u)
  as-one b c r t u h = record { shape = refl; own = h.own; lexical = h.lexical; hoisted = h.hoisted; named = h.named; scopes = h.scopes; new_scopes = h.new_scopes; resolved = λ p q a s v e d. h.resolved p q a (λ f. s) v (record { scope = e.scope; parameters = λ f. e.parameters refl }) d }

  pub as-many : (b : Place) (c : Change) (r : Role) (ts us : Trees) → KeptAll n b c r ts us → KeptBy n b c r (many ts) (many us)
  as-many b c r ts us h = record { shape = refl; own = refl; lexical = h.lexical; hoisted = h.hoisted; named = h.named; scopes = h.scopes; new_scopes = h.new_scopes; resolved = h.resolved }

  pub as-statements : (b : Place) (c : Change) (r : Role) (ts us : Trees) → KeptAll n b c r ts us → KeptBy n b c r (statements ts) (statements us)
  as-statements b c r ts us h = record { shape = refl; own = refl; lexical = h.lexical; hoisted = h.hoisted; named = h.named; scopes = h.scopes; new_scopes = h.new_scopes; resolved = h.resolved }

  pub left-trees : (b : Place) (c : Change) (r : Role) (t u : Tree) (ts : Trees) → NamedAll n.in_use n.free r ts → Kept n b c r t u → KeptAll (plain n) b sealed r ts ts → KeptAll n b c r (t before ts) (u before ts)
  left-trees b c r t u ts rest h k = record {
    lexical = lexical-left c n (declared_among false r ts) (declared false r t) (declared false r u) h.lexical;
    hoisted = hoisted-left c n (declared_among true r ts) (declared true r t) (declared true r u) h.hoisted;
    named = (h.named, k.named);
    scopes = λ s ps e j. h.scopes s ps e j + scopes_among s ps r ts;
    new_scopes = λ s ps e. at-most (scopes_with s ps r u) (scopes_among s ps r ts) (limit c n s) (h.new_scopes s ps e) (no-scopes-all n.in_use n.free s e ps r ts rest);
    resolved = λ p q a s v e d. (h.resolved p q a (λ f. s) v (of-tree e) d.0, k.resolved p q (plain-agree p q a) (any-parameters c p q s) tt e d.1);
  }

  pub right-trees : (b : Place) (c : Change) (r : Role) (t : Tree) (ts us : Trees) → Named n.in_use n.free r t → Kept (plain n) b sealed r t t → KeptAll n b c r ts us → KeptAll n b c r (t before ts) (t before us)
  right-trees b c r t ts us used h k = record {
    lexical = lexical-right c n (declared false r t) (declared_among false r ts) (declared_among false r us) (lacks-tree false r t used) k.lexical;
    hoisted = hoisted-right c n (declared true r t) (declared_among true r ts) (declared_among true r us) (lacks-tree true r t used) k.hoisted;
    named = (h.named, k.named);
    scopes = λ s ps e j. scopes_with s ps r t + k.scopes s ps e j;
    new_scopes = λ s ps e. at-most-after (scopes_with s ps r t) (scopes_among s ps r us) (limit c n s) (k.new_scopes s ps e) (no-scopes n.in_use n.free s e ps r t used);
    resolved = λ p q a s v e d. (h.resolved p q (plain-agree p q a) (λ f. any-parameters c p q s) tt (of-tree e) d.0, k.resolved p q a s v e d.1);
  }

mutual
  pub same : (n : Known) (b : Place) (r : Role) (t : Tree) → Named n.in_use n.free r t → Kept n b sealed r t t
  same n b r (node k l fs) h = kept-node n b sealed r k l fs fs h.0 h.1 (same-in n (place_in b k l (role_at r k l fs) fs) (role_at r k l fs) fs h.1)

  pub same-in : (n : Known) (bs : ℕ → Place) (roles : ℕ → Role) (fs : Fields) → NamedIn n.in_use n.free roles fs → KeptIn n bs sealed roles fs fs
  same-in n bs roles done h = record { spot = 0; shape = λ i. refl; own = refl; lexical = λ counts. refl; hoisted = refl; named = tt; scopes = λ s ps e. refl; new_scopes = λ s ps e. none-at-most s (limit sealed n s); resolved = λ ps qs a s v e d. tt }
  same-in n bs roles (f then fs) h = left-fields n bs sealed roles f f fs h.1 (same-by n (bs zero) (roles zero) f h.0) (same-in (plain n) (λ i. bs (suc i)) (λ i. roles (suc i)) fs h.1)

  pub same-by : (n : Known) (b : Place) (r : Role) (f : Field) → NamedBy n.in_use n.free r f → KeptBy n b sealed r f f
  same-by n b r missing h = record { shape = refl; own = refl; lexical = refl; hoisted = refl; named = tt; scopes = λ s ps e. refl; new_scopes = λ s ps e. none-at-most s (limit sealed n s); resolved = λ p q a s v e d. tt }
  same-by n b r (one t) h = as-one n b sealed r t t (same n b r t h)
  same-by n b r (many ts) h = as-many n b sealed r ts ts (same-all n b r ts h)
  same-by n b r (statements ts) h = as-statements n b sealed r ts ts (same-all n b r ts h)

  pub same-all : (n : Known) (b : Place) (r : Role) (ts : Trees) → NamedAll n.in_use n.free r ts → KeptAll n b sealed r ts ts
  same-all n b r empty h = record { lexical = refl; hoisted = refl; named = tt; scopes = λ s ps e. refl; new_scopes = λ s ps e. none-at-most s (limit sealed n s); resolved = λ p q a s v e d. tt }
  same-all n b r (t before ts) h = left-trees n b sealed r t t ts h.1 (same n b r t h.0) (same-all (plain n) b r ts h.1)
