-- What is pending for a list, written in it.
use Rattle.std.proofs.Common.{arith, ◌≤◌, ◌+◌, ◌≡◌, ℕ, refl, sym, ap, subst, ◌∙◌, List, [], ◌∷◌, ◌++◌, append_assoc}
use Rattle.std.specs.Prelude.{◌||◌, Bool, true, false, Option, Some, None, is_some, map, codes}
use Rattle.std.specs.List.{list_any}
use Rattle.std.proofs.Math.Bool.{or-false}
use Rattle.std.proofs.lemmas.List.Folds.{list_any-append}
use Rattle.es_tree.specs.Words.{Text}
use Rattle.es_resolution.specs.Single.{scopes_among}
use Rattle.es_steps.proofs.Scopes.{no-scopes-all}
use Rattle.es_tree.specs.Tree.{Tree, Trees, empty, ◌before◌, trees}
use Rattle.es_semantic.specs.RolesOf.{binding_of}
use Rattle.es_semantic.specs.declared.place.Role.{Role}
use Rattle.es_semantic.specs.declared.place.Role.TheVariants.{Binds}
use Rattle.es_semantic.specs.declared.place.Binding.TheVariants.{Variable}
use Rattle.es_resolution.specs.Declarations.{Bound, sought, declared, declared_among}
use Rattle.es_resolution.specs.Resolved.{Place, no_name, ResolvedAll}
use Rattle.es_resolution.specs.Named.{IsBelow, NamedAll}
use Rattle.es_steps.specs.Nodes.{declarator, this_statement, joined_trees}
use Rattle.es_steps.specs.Open.{declaration, Pending, Additions, written, with_vars, with_this, import_statement, pending_statements}
use Rattle.es_resolution.proofs.Basics.{either_of, sought-append}
use Rattle.es_steps.proofs.Kept.{Change, Known, plain, Each, IsNew, Lexical, Hoisted, SeesOn, KeptAll}
use Rattle.es_steps.proofs.Kept.Change.{above, below}
use Rattle.es_resolution.proofs.MoreNames.{named-more-all}
use Rattle.es_steps.proofs.Nodes.{lexical-left, hoisted-left}
use Rattle.es_steps.proofs.Same.{lacks-all, right-trees, plain-agree, any-parameters, same, same-all}

pub nil-right : (bs : List Bound) → bs ++ [] ≡ bs
nil-right [] = refl
nil-right (b ∷ bs) = ap (λ ds. b ∷ ds) (nil-right bs)

-- what the declarators of a declaration are
abbrev pub the_role : Text → Role
the_role kind = Binds (binding_of kind)

declared-declaration : (v : Bool) (r : Role) (kind : Text) (ds : List Tree) (ts : Trees) → declared_among v r (declaration kind ds ts) ≡ declared_among v (the_role kind) (trees ds) ++ declared_among v r ts
declared-declaration v r kind [] ts = refl
declared-declaration true r kind (d ∷ ds) ts = ap (λ bs. bs ++ declared_among true r ts) (nil-right (declared_among true (the_role kind) (trees (d ∷ ds))))
declared-declaration false r kind (d ∷ ds) ts = ap (λ bs. bs ++ declared_among false r ts) (nil-right (declared_among false (the_role kind) (trees (d ∷ ds))))

pub named-split : (u : Text → Bool) (f : ℕ) (r : Role) (kind : Text) (ds : List Tree) (ts : Trees) → NamedAll u f r (declaration kind ds ts) → NamedAll u f (the_role kind) (trees ds) × NamedAll u f r ts
named-split u f r kind [] ts h = (tt, h)
named-split u f r kind (d ∷ ds) ts h = (h.0.1.0, h.1)

named-join : (u : Text → Bool) (f : ℕ) (r : Role) (kind : Text) (ds : List Tree) (ts : Trees) → NamedAll u f (the_role kind) (trees ds) → NamedAll u f r ts → NamedAll u f r (declaration kind ds ts)
named-join u f r kind [] ts h k = k
named-join u f r kind (d ∷ ds) ts h k = (((tt, tt), (h, tt)), k)

abbrev pub body_place : Place → Place
body_place p = record p { parameters = no_name }

resolved-split : (r : Role) (p : Place) (kind : Text) (ds : List Tree) (ts : Trees) → ResolvedAll r p (declaration kind ds ts) → ResolvedAll (the_role kind) (body_place p) (trees ds) × ResolvedAll r p ts
resolved-split r p kind [] ts h = (tt, h)
resolved-split r p kind (d ∷ ds) ts h = (h.0.2.0, h.1)

resolved-join : (r : Role) (p : Place) (kind : Text) (ds : List Tree) (ts : Trees) → ResolvedAll (the_role kind) (body_place p) (trees ds) → ResolvedAll r p ts → ResolvedAll r p (declaration kind ds ts)
resolved-join r p kind [] ts h k = k
resolved-join r p kind (d ∷ ds) ts h k = ((tt, refl, (h, tt)), k)

declared-both : (v : Bool) (r : Role) (xs ys : List Tree) → declared_among v r (trees (xs ++ ys)) ≡ declared_among v r (trees xs) ++ declared_among v r (trees ys)
declared-both v r [] ys = refl
declared-both v r (x ∷ xs) ys = ap (λ bs. declared v r x ++ bs) (declared-both v r xs ys) ∙ sym (append_assoc (declared v r x) (declared_among v r (trees xs)) (declared_among v r (trees ys)))

named-both : (u : Text → Bool) (f : ℕ) (r : Role) (xs ys : List Tree) → NamedAll u f r (trees xs) → NamedAll u f r (trees ys) → NamedAll u f r (trees (xs ++ ys))
named-both u f r [] ys h k = k
named-both u f r (x ∷ xs) ys h k = (h.0, named-both u f r xs ys h.1 k)

resolved-both : (r : Role) (p : Place) (xs ys : List Tree) → ResolvedAll r p (trees xs) → ResolvedAll r p (trees ys) → ResolvedAll r p (trees (xs ++ ys))
resolved-both r p [] ys h k = k
resolved-both r p (x ∷ xs) ys h k = (h.0, resolved-both r p xs ys h.1 k)

-- THE NEW DECLARATORS

new-below : (e f : ℕ) (o : Option ℕ) → IsNew e f o → IsBelow f o
new-below e f None h = tt
new-below e f (Some s) h = h.1

declared-given : (bs : List Bound) → declared_among true (Binds Variable) (trees (map declarator bs)) ≡ bs
declared-given [] = refl
declared-given (b ∷ bs) = ap (λ ds. b ∷ ds) (declared-given bs)

lexical-given : (bs : List Bound) → declared_among false (Binds Variable) (trees (map declarator bs)) ≡ []
lexical-given [] = refl
lexical-given (b ∷ bs) = lexical-given bs

named-given : (given : List Bound) (e f : ℕ) (u : Text → Bool) (bs : List Bound) → Each (λ b. (sought given b.name ≡ Some b.symbol) × (is_some b.symbol ≡ true) × (u b.name ≡ true)) bs → Each (λ b. IsNew e f b.symbol) bs → NamedAll u f (Binds Variable) (trees (map declarator bs))
named-given given e f u [] h k = tt
named-given given e f u (b ∷ bs) h k = (((tt, tt), (((h.0.2, new-below e f b.symbol k.0), tt), (tt, tt))), named-given given e f u bs h.1 k.1)

resolved-given : (n : Known) (q : Place) (bs : List Bound) → SeesOn n q.hoist → Each (λ b. (sought n.given b.name ≡ Some b.symbol) × (is_some b.symbol ≡ true) × (n.in_use_after b.name ≡ true)) bs → ResolvedAll (Binds Variable) q (trees (map declarator bs))
resolved-given n q [] s h = tt
resolved-given n q (b ∷ bs) s h = ((tt, refl, (((sym (s b.name b.symbol h.0.0), h.0.1), refl, tt), (tt, tt))), resolved-given n q bs s h.1)

-- WRITTEN LISTS

pub kept-declaration : (n : Known) (b : Place) (c : Change) (r : Role) (kind : Text) (ds : List Tree) (ts us : Trees) → NamedAll n.in_use n.free r (declaration kind ds ts) → KeptAll n b c r ts us → KeptAll n b c r (declaration kind ds ts) (declaration kind ds us)
kept-declaration n b c r kind [] ts us used h = h
kept-declaration n b c r kind (d ∷ ds) ts us used h = right-trees n b c r _ ts us used.0 (same (plain n) b r _ used.0) h

not_given : (n : Known) (y : Text) → n.in_use y ≡ true → sought n.given y ≡ None
not_given n y u = at (sought n.given y) refl
  where
    at : (a : Option (Option ℕ)) → sought n.given y ≡ a → a ≡ None
    at None e = refl
    at (Some o) e = absurd (cc (n.fresh y o e, u))

none_between : (a b : Option (Option ℕ)) → either_of (either_of a None) b ≡ either_of a b
none_between None b = refl
none_between (Some s) b = refl

none_of : (q : Bound → Bool) (bs : List Bound) → Each (λ b. q b ≡ false) bs → list_any q bs ≡ false
none_of q [] h = refl
none_of q (b ∷ bs) h = λ i. h.0 i || none_of q bs h.1 i

plus-zero : (m : ℕ) → m + 0 ≡ m
plus-zero m = omega arith

scopes-declaration : (s : ℕ) (ps : Text → Bool) (r : Role) (ds : List Tree) (ts : Trees) → scopes_among s ps r (declaration (codes "var") ds ts) ≡ scopes_among s no_name (Binds Variable) (trees ds) + scopes_among s ps r ts
scopes-declaration s ps r [] ts = omega arith
scopes-declaration s ps r (d ∷ ds) ts = omega arith

pub scopes-both : (s : ℕ) (ps : Text → Bool) (r : Role) (xs ys : List Tree) → scopes_among s ps r (trees (xs ++ ys)) ≡ scopes_among s ps r (trees xs) + scopes_among s ps r (trees ys)
scopes-both s ps r [] ys = omega arith
scopes-both s ps r (x ∷ xs) ys = let h = scopes-both s ps r xs ys in omega arith

pub scopes-given : (s : ℕ) (bs : List Bound) → scopes_among s no_name (Binds Variable) (trees (map declarator bs)) ≡ 0
scopes-given s [] = refl
scopes-given s (b ∷ bs) = let h = scopes-given s bs in omega arith

module _ (n : Known) (b : Place) (r : Role) (ds : List Tree) (ts us : Trees) (used : NamedAll n.in_use n.free r (declaration (codes "var") ds ts)) (h : KeptAll n b above r ts us) where
  own_part : List Bound
  own_part = declared_among true (Binds Variable) (trees ds)

  others : List Bound
  others = declared_among true r ts

  before-is : declared_among true r (declaration (codes "var") ds ts) ≡ own_part ++ others
  unfolding own_part others
  before-is = declared-declaration true r (codes "var") ds ts

  after-is : declared_among true r (declaration (codes "var") (ds ++ map declarator n.given) us) ≡ (own_part ++ n.given) ++ others
  unfolding own_part others
  after-is = declared-declaration true r (codes "var") (ds ++ map declarator n.given) us ∙ (λ i. (declared-both true (Binds Variable) ds (map declarator n.given) ∙ ap (λ bs. declared_among true (Binds Variable) (trees ds) ++ bs) (declared-given n.given)) i ++ h.hoisted i)

  own-lacks : (y : Text) (o : Option ℕ) → sought n.given y ≡ Some o → sought own_part y ≡ None
  unfolding own_part
  own-lacks = lacks-all n true (Binds Variable) (trees ds) (named-split n.in_use n.free r (codes "var") ds ts used).0

  sought-after : (y : Text) → sought (declared_among true r (declaration (codes "var") (ds ++ map declarator n.given) us)) y ≡ either_of (either_of (sought own_part y) (sought n.given y)) (sought others y)
  sought-after y = ap (λ bs. sought bs y) after-is ∙ sought-append (own_part ++ n.given) others y ∙ ap (λ a. either_of a (sought others y)) (sought-append own_part n.given y)

  sought-before : (y : Text) → sought (declared_among true r (declaration (codes "var") ds ts)) y ≡ either_of (sought own_part y) (sought others y)
  sought-before y = ap (λ bs. sought bs y) before-is ∙ sought-append own_part others y

  any-after : (q : Bound → Bool) → list_any q (declared_among true r (declaration (codes "var") (ds ++ map declarator n.given) us)) ≡ ((list_any q own_part || list_any q n.given) || list_any q others)
  any-after q = ap (λ bs. list_any q bs) after-is ∙ list_any-append q (own_part ++ n.given) others ∙ ap (λ z. z || list_any q others) (list_any-append q own_part n.given)

  any-before : (q : Bound → Bool) → list_any q (declared_among true r (declaration (codes "var") ds ts)) ≡ (list_any q own_part || list_any q others)
  any-before q = ap (λ bs. list_any q bs) before-is ∙ list_any-append q own_part others

  pub kept-more : KeptAll n b below r (declaration (codes "var") ds ts) (declaration (codes "var") (ds ++ map declarator n.given) us)
  kept-more = record {
    lexical = declared-declaration false r (codes "var") (ds ++ map declarator n.given) us ∙ (λ i. (declared-both false (Binds Variable) ds (map declarator n.given) ∙ ap (λ bs. declared_among false (Binds Variable) (trees ds) ++ bs) (lexical-given n.given) ∙ nil-right (declared_among false (Binds Variable) (trees ds))) i ++ h.lexical i) ∙ sym (declared-declaration false r (codes "var") ds ts);
    hoisted = record {
      used = λ y u. sought-after y ∙ ap (λ a. either_of (either_of (sought own_part y) a) (sought others y)) (not_given n y u) ∙ none_between (sought own_part y) (sought others y) ∙ sym (sought-before y);
      new = λ y o e. sought-after y ∙ (λ i. either_of (either_of (own-lacks y o e i) (e i)) (sought others y));
      others = λ q e. any-after q ∙ (λ i. (list_any q own_part || none_of q n.given e i) || list_any q others) ∙ ap (λ z. z || list_any q others) (or-false (list_any q own_part)) ∙ sym (any-before q);
    };
    scopes = λ s ps e. scopes-declaration s ps r (ds ++ map declarator n.given) us ∙ (λ i. (scopes-both s no_name (Binds Variable) ds (map declarator n.given) ∙ ap (λ z. scopes_among s no_name (Binds Variable) (trees ds) + z) (scopes-given s n.given) ∙ plus-zero (scopes_among s no_name (Binds Variable) (trees ds))) i + h.scopes s ps e i) ∙ sym (scopes-declaration s ps r ds ts);
    new_scopes = λ s ps e.
        let a = scopes-declaration s ps r (ds ++ map declarator n.given) us in
        let b2 = scopes-both s no_name (Binds Variable) ds (map declarator n.given) in
        let c = scopes-given s n.given in
        let d = no-scopes-all n.in_use n.free s e no_name (Binds Variable) (trees ds) (named-split n.in_use n.free r (codes "var") ds ts used).0 in
        let g = h.new_scopes s ps e in
        omega arith;
    named = named-join n.in_use_after n.free_after r (codes "var") (ds ++ map declarator n.given) us (named-both n.in_use_after n.free_after (Binds Variable) ds (map declarator n.given) (named-more-all n.in_use n.in_use_after n.more n.free n.free_after n.freer (Binds Variable) (trees ds) (named-split n.in_use n.free r (codes "var") ds ts used).0) (named-given n.given n.free n.free_after n.in_use_after n.given n.sound n.range)) h.named;
    resolved = λ p q a s v f d.
        let parts = resolved-split r p (codes "var") ds ts d in
        let old = (same-all (plain n) (body_place b) (Binds Variable) (trees ds) (named-split n.in_use n.free r (codes "var") ds ts used).0).resolved (body_place p) (body_place q) (record { scope = a.scope; hoist = a.hoist }) (record { used = λ y u. refl; new = λ g y o e. refl }) tt (record { scope = f.scope; parameters = λ e. refl }) parts.0 in
        resolved-join r q (codes "var") (ds ++ map declarator n.given) us (resolved-both (Binds Variable) (body_place q) ds (map declarator n.given) old (resolved-given n (body_place q) n.given v.hoist n.sound)) (h.resolved p q a (record { used = s.used; new = λ g. s.new (λ k. absurd (cc k)) }) v f parts.1);
  }

-- where a step adds declarators to a list, they are in it when it is written
pub written-more : (n : Known) (b : Place) (r : Role) (p : Pending) (ts us : Trees) → NamedAll n.in_use n.free r (written p ts) → KeptAll n b above r ts us → KeptAll n b below r (written p ts) (written (with_vars n.given p) us)
written-more n b r p ts us used h = kept-more n b r p.vars (declaration (codes "let") p.lets ts) (declaration (codes "let") p.lets us) used (kept-declaration n b above r (codes "let") p.lets ts us (named-split n.in_use n.free r (codes "var") p.vars (declaration (codes "let") p.lets ts) used).1 h)

pub written-same : (n : Known) (b : Place) (c : Change) (r : Role) (p : Pending) (ts us : Trees) → NamedAll n.in_use n.free r (written p ts) → KeptAll n b c r ts us → KeptAll n b c r (written p ts) (written p us)
written-same n b c r p ts us used h = kept-declaration n b c r (codes "var") p.vars (declaration (codes "let") p.lets ts) (declaration (codes "let") p.lets us) used (kept-declaration n b c r (codes "let") p.lets ts us (named-split n.in_use n.free r (codes "var") p.vars (declaration (codes "let") p.lets ts) used).1 h)

pub written-named : (u : Text → Bool) (f : ℕ) (r : Role) (p : Pending) (ts : Trees) → NamedAll u f r (written p ts) → NamedAll u f r ts
written-named u f r p ts used = (named-split u f r (codes "let") p.lets ts (named-split u f r (codes "var") p.vars (declaration (codes "let") p.lets ts) used).1).1

-- PREFIXES of lists

pub named-joined : (u : Text → Bool) (f : ℕ) (r : Role) (xs ts : Trees) → NamedAll u f r (joined_trees xs ts) → NamedAll u f r xs × NamedAll u f r ts
named-joined u f r empty ts h = (tt, h)
named-joined u f r (x before xs) ts h = let k = named-joined u f r xs ts h.1 in ((h.0, k.0), k.1)

pub join-named : (u : Text → Bool) (f : ℕ) (r : Role) (xs ts : Trees) → NamedAll u f r xs → NamedAll u f r ts → NamedAll u f r (joined_trees xs ts)
join-named u f r empty ts h k = k
join-named u f r (x before xs) ts h k = (h.0, join-named u f r xs ts h.1 k)

pub kept-joined : (n : Known) (b : Place) (c : Change) (r : Role) (xs ts us : Trees) → NamedAll n.in_use n.free r xs → KeptAll n b c r ts us → KeptAll n b c r (joined_trees xs ts) (joined_trees xs us)
kept-joined n b c r empty ts us used h = h
kept-joined n b c r (x before xs) ts us used h = right-trees n b c r x (joined_trees xs ts) (joined_trees xs us) used.0 (same (plain n) b r x used.0) (kept-joined n b c r xs ts us used.1 h)

kept-this : (n : Known) (b : Place) (c : Change) (r : Role) (x : Option Bound) (ts us : Trees) → NamedAll n.in_use n.free r (with_this x ts) → KeptAll n b c r ts us → KeptAll n b c r (with_this x ts) (with_this x us)
kept-this n b c r None ts us used h = h
kept-this n b c r (Some x) ts us used h = right-trees n b c r (this_statement x) ts us used.0 (same (plain n) b r (this_statement x) used.0) h

this-named : (u : Text → Bool) (f : ℕ) (r : Role) (x : Option Bound) (ts : Trees) → NamedAll u f r (with_this x ts) → NamedAll u f r ts
this-named u f r None ts h = h
this-named u f r (Some x) ts h = h.1

-- WHAT IS PENDING for a list, before these statements

abbrev imports_of : Additions → Trees
imports_of a = trees (map import_statement a.imports)

abbrev pub pending_before : Pending → Option Bound → Additions → Trees → Trees
pending_before p x a ts = declaration (codes "const") a.excluded (with_this x (joined_trees (trees (map import_statement a.imports)) (written p ts)))

declaration-joined : (kind : Text) (ds : List Tree) (ts us : Trees) → joined_trees (declaration kind ds ts) us ≡ declaration kind ds (joined_trees ts us)
declaration-joined kind [] ts us = refl
declaration-joined kind (d ∷ ds) ts us = refl

this-joined : (x : Option Bound) (ts us : Trees) → joined_trees (with_this x ts) us ≡ with_this x (joined_trees ts us)
this-joined None ts us = refl
this-joined (Some x) ts us = refl

pub joined-twice : (xs ys zs : Trees) → joined_trees (joined_trees xs ys) zs ≡ joined_trees xs (joined_trees ys zs)
joined-twice empty ys zs = refl
joined-twice (x before xs) ys zs = λ i. x before joined-twice xs ys zs i

pub pending-joined : (p : Pending) (x : Option Bound) (a : Additions) (ts : Trees) → joined_trees (pending_statements p x a) ts ≡ pending_before p x a ts
pending-joined p x a ts =
    declaration-joined (codes "const") a.excluded (with_this x (joined_trees (imports_of a) (written p empty))) ts ∙
    ap (λ z. declaration (codes "const") a.excluded z) (this-joined x (joined_trees (imports_of a) (written p empty)) ts ∙
    ap (λ z. with_this x z) (joined-twice (imports_of a) (written p empty) ts ∙
    ap (λ z. joined_trees (imports_of a) z) (declaration-joined (codes "var") p.vars (declaration (codes "let") p.lets empty) ts ∙
    ap (λ z. declaration (codes "var") p.vars z) (declaration-joined (codes "let") p.lets empty ts))))

module _ (u : Text → Bool) (f : ℕ) (r : Role) (p : Pending) (x : Option Bound) (a : Additions) (ts : Trees) (h : NamedAll u f r (pending_before p x a ts)) where
  excluded-named : NamedAll u f (the_role (codes "const")) (trees a.excluded) × NamedAll u f r (with_this x (joined_trees (imports_of a) (written p ts)))
  excluded-named = named-split u f r (codes "const") a.excluded (with_this x (joined_trees (imports_of a) (written p ts))) h

  imports-named : NamedAll u f r (imports_of a) × NamedAll u f r (written p ts)
  imports-named = named-joined u f r (imports_of a) (written p ts) (this-named u f r x (joined_trees (imports_of a) (written p ts)) excluded-named.1)

  before-named : NamedAll u f r ts
  before-named = written-named u f r p ts imports-named.1

-- declarators more, and a name for `this`

pub more-before : (n : Known) (b : Place) (r : Role) (p : Pending) (x : Option Bound) (a : Additions) (ts us : Trees) → NamedAll n.in_use n.free r (pending_before p x a ts) → KeptAll n b above r ts us → KeptAll n b below r (pending_before p x a ts) (pending_before (with_vars n.given p) x a us)
more-before n b r p x a ts us used h =
    let list = imports-named n.in_use n.free r p x a ts used in
    kept-declaration n b below r (codes "const") a.excluded (with_this x (joined_trees (imports_of a) (written p ts))) (with_this x (joined_trees (imports_of a) (written (with_vars n.given p) us))) used
    (kept-this n b below r x (joined_trees (imports_of a) (written p ts)) (joined_trees (imports_of a) (written (with_vars n.given p) us)) (excluded-named n.in_use n.free r p x a ts used).1
    (kept-joined n b below r (imports_of a) (written p ts) (written (with_vars n.given p) us) list.0 (written-more n b r p ts us list.1 h)))

-- the name for `this` of a target
this-more : (n : Known) (b : Place) (r : Role) (x : Bound) (ts us : Trees) → n.given ≡ x ∷ [] → NamedAll n.in_use n.free r ts → KeptAll n b above r ts us → KeptAll n b below r ts (this_statement x before us)
this-more n b r x ts us e used h = record {
  lexical = h.lexical;
  hoisted = record {
    used = λ y u. (λ i. sought (x ∷ h.hoisted i) y) ∙ skip y u;
    new = λ y o g. sought-append (x ∷ []) (declared_among true r us) y ∙ ap (λ z. either_of z (sought (declared_among true r us) y)) (subst (λ (bs : List Bound). sought bs y ≡ Some o) e g);
    others = λ q g. (λ i. q x || list_any q (h.hoisted i)) ∙ ap (λ z. z || list_any q (declared_among true r ts)) (subst (λ (bs : List Bound). Each (λ b. q b ≡ false) bs) e g).0;
  };
  named = (((tt, tt), ((((tt, tt), (((sound.0.2, new-below n.free n.free_after x.symbol range.0), tt), (((tt, tt), tt), tt))), tt), tt)), h.named);
  scopes = λ s ps f. let g = h.scopes s ps f in omega arith;
  new_scopes = λ s ps f. let g = h.new_scopes s ps f in omega arith;
  resolved = λ p q a s v f d. ((tt, refl, (((tt, refl, (((sym (v.hoist x.name x.symbol seen), sound.0.1), refl, tt), ((tt, refl, tt), tt))), tt), tt)), h.resolved p q a (record { used = s.used; new = λ g. s.new (λ k. absurd (cc k)) }) v f d);
}
  where
    sound : Each (λ b. (sought n.given b.name ≡ Some b.symbol) × (is_some b.symbol ≡ true) × (n.in_use_after b.name ≡ true)) (x ∷ [])
    sound = subst (λ (bs : List Bound). Each (λ b. (sought n.given b.name ≡ Some b.symbol) × (is_some b.symbol ≡ true) × (n.in_use_after b.name ≡ true)) bs) e n.sound

    range : Each (λ b. IsNew n.free n.free_after b.symbol) (x ∷ [])
    range = subst (λ (bs : List Bound). Each (λ b. IsNew n.free n.free_after b.symbol) bs) e n.range

    seen : sought n.given x.name ≡ Some x.symbol
    seen = sound.0.0

    skip : (y : Text) → n.in_use y ≡ true → sought (x ∷ declared_among true r ts) y ≡ sought (declared_among true r ts) y
    skip y u = sought-append (x ∷ []) (declared_among true r ts) y ∙ ap (λ z. either_of z (sought (declared_among true r ts) y)) (subst (λ (bs : List Bound). sought bs y ≡ None) e (not_given n y u))

pub this-before : (n : Known) (b : Place) (r : Role) (p : Pending) (x : Bound) (a : Additions) (ts us : Trees) → n.given ≡ x ∷ [] → NamedAll n.in_use n.free r (pending_before p None a ts) → KeptAll n b above r ts us → KeptAll n b below r (pending_before p None a ts) (pending_before p (Some x) a us)
this-before n b r p x a ts us e used h =
    let list = imports-named n.in_use n.free r p None a ts used in
    kept-declaration n b below r (codes "const") a.excluded (joined_trees (imports_of a) (written p ts)) (this_statement x before joined_trees (imports_of a) (written p us)) used
    (this-more n b r x (joined_trees (imports_of a) (written p ts)) (joined_trees (imports_of a) (written p us)) e (excluded-named n.in_use n.free r p None a ts used).1
    (kept-joined n b above r (imports_of a) (written p ts) (written p us) list.0 (written-same n b above r p ts us list.1 h)))

-- no scope stands in what is added

scopes-of : (s : ℕ) (ps : Text → Bool) (r : Role) (kind : Text) (ds : List Tree) (ts : Trees) → scopes_among s ps r (declaration kind ds ts) ≡ scopes_among s no_name (the_role kind) (trees ds) + scopes_among s ps r ts
scopes-of s ps r kind [] ts = omega arith
scopes-of s ps r kind (d ∷ ds) ts = omega arith

scopes-this : (s : ℕ) (ps : Text → Bool) (r : Role) (x : Option Bound) (ts : Trees) → scopes_among s ps r (with_this x ts) ≡ scopes_among s ps r ts
scopes-this s ps r None ts = refl
scopes-this s ps r (Some x) ts = omega arith

pub scopes-joined : (s : ℕ) (ps : Text → Bool) (r : Role) (xs ts : Trees) → scopes_among s ps r (joined_trees xs ts) ≡ scopes_among s ps r xs + scopes_among s ps r ts
scopes-joined s ps r empty ts = omega arith
scopes-joined s ps r (x before xs) ts = let h = scopes-joined s ps r xs ts in omega arith

pub scopes-before : (s : ℕ) (ps : Text → Bool) (r : Role) (p : Pending) (x : Option Bound) (a : Additions) (ts : Trees) → scopes_among s ps r (pending_before p x a ts) ≡ scopes_among s no_name (the_role (codes "const")) (trees a.excluded) + scopes_among s ps r (imports_of a) + scopes_among s no_name (Binds Variable) (trees p.vars) + scopes_among s no_name (the_role (codes "let")) (trees p.lets) + scopes_among s ps r ts
scopes-before s ps r p x a ts =
    let e = scopes-of s ps r (codes "const") a.excluded (with_this x (joined_trees (imports_of a) (written p ts))) in
    let f = scopes-this s ps r x (joined_trees (imports_of a) (written p ts)) in
    let g = scopes-joined s ps r (imports_of a) (written p ts) in
    let h = scopes-of s ps r (codes "var") p.vars (declaration (codes "let") p.lets ts) in
    let k = scopes-of s ps r (codes "let") p.lets ts in
    omega arith

-- the old scopes bind no new symbol
pub no-scopes-before : (n : Known) (s : ℕ) (ps : Text → Bool) (r : Role) (p : Pending) (x : Option Bound) (a : Additions) → n.free ≤ s → NamedAll n.in_use n.free r (pending_before p x a empty) → scopes_among s no_name (the_role (codes "const")) (trees a.excluded) + scopes_among s ps r (imports_of a) + scopes_among s no_name (Binds Variable) (trees p.vars) + scopes_among s no_name (the_role (codes "let")) (trees p.lets) ≡ 0
no-scopes-before n s ps r p x a e used = let f = scopes-before s ps r p x a empty in let g = no-scopes-all n.in_use n.free s e ps r (pending_before p x a empty) used in omega arith

-- one statement becomes some
pub declared-joined : (v : Bool) (r : Role) (xs ts : Trees) → declared_among v r (joined_trees xs ts) ≡ declared_among v r xs ++ declared_among v r ts
declared-joined v r empty ts = refl
declared-joined v r (x before xs) ts = ap (λ bs. declared v r x ++ bs) (declared-joined v r xs ts) ∙ sym (append_assoc (declared v r x) (declared_among v r xs) (declared_among v r ts))

pub resolved-joined : (r : Role) (p : Place) (xs ts : Trees) → ResolvedAll r p xs → ResolvedAll r p ts → ResolvedAll r p (joined_trees xs ts)
resolved-joined r p empty ts h k = k
resolved-joined r p (x before xs) ts h k = (h.0, resolved-joined r p xs ts h.1 k)

pub resolved-parts : (r : Role) (p : Place) (xs ts : Trees) → ResolvedAll r p (joined_trees xs ts) → ResolvedAll r p xs × ResolvedAll r p ts
resolved-parts r p empty ts h = (tt, h)
resolved-parts r p (x before xs) ts h = let k = resolved-parts r p xs ts h.1 in ((h.0, k.0), k.1)

pub several : (n : Known) (b : Place) (c : Change) (r : Role) (xs us ts : Trees) → NamedAll n.in_use n.free r ts → KeptAll n b c r xs us → KeptAll n b c r (joined_trees xs ts) (joined_trees us ts)
several n b c r xs us ts rest h = record {
  lexical = subst (λ (z : List Bound). Lexical c n z (declared_among false r (joined_trees us ts))) (sym (declared-joined false r xs ts)) (subst (λ (z : List Bound). Lexical c n (declared_among false r xs ++ declared_among false r ts) z) (sym (declared-joined false r us ts)) (lexical-left c n (declared_among false r ts) (declared_among false r xs) (declared_among false r us) h.lexical));
  hoisted = subst (λ (z : List Bound). Hoisted c n z (declared_among true r (joined_trees us ts))) (sym (declared-joined true r xs ts)) (subst (λ (z : List Bound). Hoisted c n (declared_among true r xs ++ declared_among true r ts) z) (sym (declared-joined true r us ts)) (hoisted-left c n (declared_among true r ts) (declared_among true r xs) (declared_among true r us) h.hoisted));
  named = join-named n.in_use_after n.free_after r us ts h.named (named-more-all n.in_use n.in_use_after n.more n.free n.free_after n.freer r ts rest);
  scopes = λ s ps e. let g = h.scopes s ps e in let k = scopes-joined s ps r us ts in let m = scopes-joined s ps r xs ts in omega arith;
  new_scopes = λ s ps e. let g = h.new_scopes s ps e in let k = scopes-joined s ps r us ts in let z = no-scopes-all n.in_use n.free s e ps r ts rest in omega arith;
  resolved = λ p q a s v e d. let parts = resolved-parts r p xs ts d in resolved-joined r q us ts (h.resolved p q a s v e parts.0) ((same-all (plain n) b r ts rest).resolved p q (plain-agree n p q a) (any-parameters n c p q s) tt e parts.1);
}
