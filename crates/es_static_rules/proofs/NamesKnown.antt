-- The names that a map knows.
use Rattle.std.proofs.Common.{◌≡◌, ℕ, ◌==◌, Bool, true, false, ◌||◌, ◌&&◌, cond, List, [], ◌∷◌, ◌++◌, Option, Some, None, is_some, unwrap_or, bytes_eq, get_or, take, map, length, ◌+◌, ◌<◌, append_assoc, eq-eqb, refl, sym, ap, ◌∙◌}
use Rattle.std.specs.Cmp.Lexicographic.{bytes_decides}
use Rattle.std.specs.HashMap.{get, UpdatesBy}
use Rattle.std.proofs.lemmas.List.{map-append, take_more}
use Rattle.std.proofs.lemmas.List.Recursion.{or_at, or_push}
use Rattle.std.proofs.lemmas.Bool.{eqb-true, false_from_ne_true}
use denote.Enum.Bare.{sameb, same_true, same_false}
use Rattle.es_tree.specs.DeclaredNames.{Name, clashes, is_declared, is_same_name, namespace_number}
use Rattle.es_tree.specs.StaticRules.{has_clash}
use Rattle.es_tree.specs.Words.{Text}
use Rattle.es_tree.specs.contracts.place.Namespace.{the_type}
use Rattle.es_tree.specs.declared.error.Rule.{Rule}
use Rattle.es_tree.specs.declared.place.Namespace.{Namespace}
use Rattle.es_tree.specs.declared.place.Namespace.TheVariants.{Scope, Parameters, Exports, PrivateNames, FirstSlot, SecondSlot, ThirdSlot, FourthSlot, Constructors}
use Rattle.es_static_rules.specs.Bindings.{plain_name}
use Rattle.es_static_rules.specs.Checks.{Declares, IsAnswer, IsClashAnswer, belongs_to, Names, clashes_with, key_of, lexical_among, same_key}
use Rattle.es_static_rules.specs.declared.known_names.Key.{Key}
use Rattle.es_static_rules.specs.declared.names.Name.{Name as HeldName}

clashes_with-more : (same lexical here : Bool) (more : Option Bool) → ((same && (lexical || here)) || clashes_with more here) ≡ clashes_with (cond same (Some (lexical || unwrap_or more false)) more) here
clashes_with-more true true here more = refl
clashes_with-more true false true None = refl
clashes_with-more true false false None = refl
clashes_with-more true false true (Some true) = refl
clashes_with-more true false true (Some false) = refl
clashes_with-more true false false (Some true) = refl
clashes_with-more true false false (Some false) = refl
clashes_with-more false lexical here more = refl

-- whether a name clashes, by what is known of it
pub clashes-known : (earlier : List Name) (n : Name) → clashes earlier n ≡ clashes_with (lexical_among earlier n.namespace n.owner n.text) n.lexical
clashes-known [] n = refl
clashes-known (e ∷ es) n =
    rw (clashes-known es n) (clashes_with-more (is_same_name n.namespace n.owner n.text e) e.lexical n.lexical (lexical_among es n.namespace n.owner n.text))

declared-more : (same lexical : Bool) (more : Option Bool) → (same || is_some more) ≡ is_some (cond same (Some (lexical || unwrap_or more false)) more)
declared-more true lexical more = refl
declared-more false lexical more = refl

-- whether a name is declared
pub declared-known : (earlier : List Name) (s : Namespace) (n : ℕ) (x : Text) → is_declared earlier s n x ≡ is_some (lexical_among earlier s n x)
declared-known [] s n x = refl
declared-known (e ∷ es) s n x = rw (declared-known es s n x) (declared-more (is_same_name s n x e) e.lexical (lexical_among es s n x))

-- KEYS

spaces : List Namespace
spaces = Scope ∷ Parameters ∷ Exports ∷ PrivateNames ∷ FirstSlot ∷ SecondSlot ∷ ThirdSlot ∷ FourthSlot ∷ Constructors ∷ []

space_at-number : (s : Namespace) → get_or spaces (namespace_number s) Scope ≡ s
unfolding spaces
space_at-number Scope = refl
space_at-number Parameters = refl
space_at-number Exports = refl
space_at-number PrivateNames = refl
space_at-number FirstSlot = refl
space_at-number SecondSlot = refl
space_at-number ThirdSlot = refl
space_at-number FourthSlot = refl
space_at-number Constructors = refl

one_number : (s r : Namespace) → namespace_number s ≡ namespace_number r → s ≡ r
one_number s r e = sym (space_at-number s) ∙ (ap (λ n. get_or spaces n Scope) e ∙ space_at-number r)

same_space : (s r : Namespace) (b : Bool) → sameb the_type s r ≡ b → b ≡ (namespace_number s == namespace_number r)
same_space s r true e =
    let same : s ≡ r = same_true the_type tt s r e in
    sym (eq-eqb (namespace_number s) (namespace_number r) (ap namespace_number same))
same_space s r false e =
    sym (false_from_ne_true (namespace_number s == namespace_number r) (λ h. same_false the_type s r e (one_number s r (eqb-true (namespace_number s) (namespace_number r) h))))

and_regroup : (a b c : Bool) → (a && (b && c)) ≡ (a && b && c)
and_regroup true b c = refl
and_regroup false b c = refl

key_of-name : (n : HeldName) (k : Key) → same_key (key_of n) k ≡ is_same_name k.namespace k.owner k.text.now (plain_name n)
key_of-name n k = rw (same_space n.namespace k.namespace (sameb the_type n.namespace k.namespace) refl) (and_regroup (namespace_number n.namespace == namespace_number k.namespace) (n.owner == k.owner) (bytes_eq n.text.now k.text.now))

and_parts : (a b c : Bool) → (a && b && c) ≡ true → (a ≡ true) × (b ≡ true) × (c ≡ true)
and_parts true true true e = (refl, refl, refl)
and_parts true true false e = cc
and_parts true false c e = cc
and_parts false b c e = cc

looked_up : (earlier : List Name) (n : HeldName) (k : Key) (either : Bool) (found : Option Bool) (same : Bool) → is_same_name k.namespace k.owner k.text.now (plain_name n) ≡ same → either ≡ (n.lexical || unwrap_or (lexical_among earlier n.namespace n.owner n.text.now) false) → found ≡ lexical_among earlier k.namespace k.owner k.text.now → cond same (Some either) found ≡ cond same (Some (n.lexical || unwrap_or (lexical_among earlier k.namespace k.owner k.text.now) false)) (lexical_among earlier k.namespace k.owner k.text.now)
looked_up earlier n k either found false e is_either is_found = is_found
looked_up earlier n k either found true e is_either is_found =
    let parts = and_parts (namespace_number n.namespace == namespace_number k.namespace) (n.owner == k.owner) (bytes_eq n.text.now k.text.now) e in
    let space : n.namespace ≡ k.namespace = one_number n.namespace k.namespace (eqb-true (namespace_number n.namespace) (namespace_number k.namespace) parts.0) in
    let owner : n.owner ≡ k.owner = eqb-true n.owner k.owner parts.1 in
    let text : n.text.now ≡ k.text.now = (bytes_decides n.text.now k.text.now).0 parts.2 in
    ap Some (is_either ∙ rw (space, owner, text) refl)

-- a name more
pub Knows-more : {S : Type 0} (old new : Names S) (n : HeldName) (key : Key) (known : Option Bool) (either : Bool) → key ≡ key_of n → known ≡ get same_key old key → either ≡ (n.lexical || unwrap_or known false) → UpdatesBy same_key (same_key key) old new (Some either) → Declares old new (plain_name n ∷ [])
Knows-more old new n key known either is_key is_known is_either updates =
    λ earlier knows k.
    let found : known ≡ lexical_among earlier n.namespace n.owner n.text.now = is_known ∙ rw is_key (knows (key_of n)) in
    updates.0 k
    ∙ rw (is_key, key_of-name n k)
    (looked_up earlier n k either (get same_key old k) (is_same_name k.namespace k.owner k.text.now (plain_name n)) refl (is_either ∙ ap (λ o. n.lexical || unwrap_or o false) found) (knows k))

-- SEVERAL NAMES

either_first : (p q a b : Bool) (more : Option Bool) → cond p (Some (a || unwrap_or (cond q (Some (b || unwrap_or more false)) more) false)) (cond q (Some (b || unwrap_or more false)) more) ≡ cond q (Some (b || unwrap_or (cond p (Some (a || unwrap_or more false)) more) false)) (cond p (Some (a || unwrap_or more false)) more)
either_first true true true true more = refl
either_first true true true false more = refl
either_first true true false true more = refl
either_first true true false false more = refl
either_first true false a b more = refl
either_first false true a b more = refl
either_first false false a b more = refl

-- a name may be declared before or after others
lexical_among-first : (ns es : List Name) (m : Name) (s : Namespace) (n : ℕ) (x : Text) → lexical_among (m ∷ (ns ++ es)) s n x ≡ lexical_among (ns ++ m ∷ es) s n x
lexical_among-first [] es m s n x = refl
lexical_among-first (e ∷ ns) es m s n x =
    either_first (is_same_name s n x m) (is_same_name s n x e) m.lexical e.lexical (lexical_among (ns ++ es) s n x)
    ∙ ap (λ o. cond (is_same_name s n x e) (Some (e.lexical || unwrap_or o false)) o) (lexical_among-first ns es m s n x)

pub Declares-more : {S : Type 0} (old mid new : Names S) (ns : List Name) (m : Name) → Declares old mid ns → Declares mid new (m ∷ []) → Declares old new (ns ++ m ∷ [])
Declares-more old mid new ns m before more = λ earlier knows k. more (ns ++ earlier) (before earlier knows) k ∙ (lexical_among-first ns earlier m k.namespace k.owner k.text.now ∙ ap (λ es. lexical_among es k.namespace k.owner k.text.now) (sym (append_assoc ns (m ∷ []) earlier)))

-- a name more of a list
pub Declares-next : {S : Type 0} (old mid new : Names S) (hs : List HeldName) (i : ℕ) (d : HeldName) → i < length hs → Declares old mid (map plain_name (take i hs)) → Declares mid new (plain_name (get_or hs i d) ∷ []) → Declares old new (map plain_name (take (i + 1) hs))
Declares-next old mid new hs i d lt before more =
    let taken : map plain_name (take (i + 1) hs) ≡ map plain_name (take i hs) ++ plain_name (get_or hs i d) ∷ [] =
    ap (map plain_name) (take_more hs i d lt) ∙ map-append plain_name (take i hs) (get_or hs i d ∷ []) in
    rw taken (Declares-more old mid new (map plain_name (take i hs)) (plain_name (get_or hs i d)) before more)

-- ANSWERS

pub declared-answer : {S : Type 0} (names : Names S) (k : Key) (found : Option Bool) (r : Bool) → found ≡ get same_key names k → r ≡ is_some found → IsAnswer names (λ earlier. is_declared earlier k.namespace k.owner k.text.now) r
declared-answer names k found r e d = λ earlier knows. d ∙ (ap is_some (e ∙ knows k) ∙ sym (declared-known earlier k.namespace k.owner k.text.now))

pub clashes-answer : {S : Type 0} (names : Names S) (n : HeldName) (key : Key) (found : Option Bool) (r : Bool) → key ≡ key_of n → found ≡ get same_key names key → r ≡ clashes_with found n.lexical → IsAnswer names (λ earlier. clashes earlier (plain_name n)) r
clashes-answer names n key found r is_key e d = λ earlier knows.
    let known : found ≡ lexical_among earlier n.namespace n.owner n.text.now = e ∙ rw is_key (knows (key_of n)) in
    d ∙ (ap (λ o. clashes_with o n.lexical) known ∙ sym (clashes-known earlier (plain_name n)))

or_none : (b : Bool) → (b || false) ≡ b
or_none true = refl
or_none false = refl

clash_of : Rule → List Name → HeldName → Bool
clash_of rule earlier h = belongs_to rule h.namespace && clashes earlier (plain_name h)

one_clash : (rule : Rule) (earlier : List Name) (h : HeldName) → has_clash (belongs_to rule) earlier (plain_name h ∷ []) ≡ clash_of rule earlier h
unfolding clash_of
one_clash rule earlier h = or_none (belongs_to rule h.namespace && clashes earlier (plain_name h))

has_clash-step : (rule : Rule) (earlier : List Name) (h : HeldName) (hs : List HeldName) → has_clash (belongs_to rule) earlier (map plain_name (h ∷ hs)) ≡ (clash_of rule earlier h || has_clash (belongs_to rule) earlier (map plain_name hs))
unfolding clash_of
has_clash-step rule earlier h hs = refl

pub clash-found : {S : Type 0} (names : Names S) (rule : Rule) (hs : List HeldName) (i : ℕ) (d : HeldName) → i < length hs → IsClashAnswer names rule (plain_name (get_or hs i d) ∷ []) true → IsClashAnswer names rule (map plain_name hs) true
clash-found names rule hs i d lt answer = λ earlier knows.
    sym (or_at (λ gs. has_clash (belongs_to rule) earlier (map plain_name gs)) (clash_of rule earlier) refl (has_clash-step rule earlier) hs i d lt (sym (one_clash rule earlier (get_or hs i d)) ∙ sym (answer earlier knows)))

pub clash-next : {S : Type 0} (names : Names S) (rule : Rule) (hs : List HeldName) (i : ℕ) (d : HeldName) → i < length hs → IsClashAnswer names rule (map plain_name (take i hs)) false → IsClashAnswer names rule (plain_name (get_or hs i d) ∷ []) false → IsClashAnswer names rule (map plain_name (take (i + 1) hs)) false
clash-next names rule hs i d lt before answer = λ earlier knows.
    let F : List HeldName → Bool = λ gs. has_clash (belongs_to rule) earlier (map plain_name gs) in
    let more : F (take (i + 1) hs) ≡ (F (take i hs) || clash_of rule earlier (get_or hs i d)) =
    ap F (take_more hs i d lt) ∙ or_push F (clash_of rule earlier) refl (has_clash-step rule earlier) (take i hs) (get_or hs i d) in
    let here : clash_of rule earlier (get_or hs i d) ≡ false = sym (one_clash rule earlier (get_or hs i d)) ∙ sym (answer earlier knows) in
    sym (more ∙ rw (← before earlier knows, here) refl)
