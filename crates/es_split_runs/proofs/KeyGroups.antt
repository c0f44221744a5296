-- What groups of properties leave out, and a frame in which the names of keys hold what the keys gave.
use Rattle.std.proofs.Common.{◌≡◌, ◌∙◌, refl, sym, ap, List, [], ◌∷◌, ◌++◌}
use Rattle.std.specs.Prelude.{Bool, true, false, Some, None, bytes_eq, if◌then◌else◌}
use Rattle.std.proofs.lemmas.Slice.Eq.{bytes_eq-Decides}
use Rattle.es_tree.specs.Words.{Text}
use Rattle.es_runs.specs.Machine.{Value, Values, Cell, M, ◌>>=◌, return, ask, onward, Result, State, set_cell, with_cell, joined}
use Rattle.es_runs.specs.Machine.Cell.{holds}
use Rattle.es_runs.specs.Machine.Question.{get}
use Rattle.es_runs.specs.Machine.Result.{gives, stops}
use Rattle.es_runs.specs.Machine.State.{state}
use Rattle.es_runs.specs.Machine.Value.{text, undefined}
use Rattle.es_runs.specs.Machine.Values.{none, ◌and◌}
use Rattle.es_runs.specs.Core.{World, name, value}
use Rattle.es_runs.specs.Alike.{Agree, Alike, Equal, Frame, Same}
use Rattle.es_runs.specs.Alike.Agree.{agree}
use Rattle.es_runs.specs.Alike.Equal.{equal}
use Rattle.es_runs.specs.Alike.Same.{both_give, both_stop, outside, at_fault}
use Rattle.es_runs.specs.Runs.{only}
use Rattle.es_runs.proofs.Basic.{bind_alike}
use Rattle.es_runs.proofs.Temporary.{bytes_eq-self}
use Rattle.es_statement_runs.specs.Laws.{all_keyed, any_cells, group_keys}
use Rattle.es_statement_runs.specs.Patterns.{Member, Putter, members_of, one_value, property_of}
use Rattle.es_statement_runs.specs.Patterns.Member.{keyed}
use Rattle.es_split_runs.specs.Laws.{Key}
use Rattle.es_split_runs.specs.Laws.Key.{name_key, text_key}
use Rattle.es_split_runs.proofs.Declarators.{alike_by, is_bound, read_bound}
use Rattle.es_split_runs.proofs.Held.{held, soft, value_of}

-- WHAT A GROUP LEAVES OUT, one property more

abbrev pub one_later : Value → Putter → Values → M Values
one_later u f us = f u >>= λ k. return (joined us (one_value k))

pub group_later : (u : Value) (fs : List Putter) (f : Putter) (st : State) → group_keys u (fs ++ (f ∷ [])) st ≡ onward (group_keys u fs st) (one_later u f)
group_later u [] f st = refl
group_later u (g ∷ fs) f st = at (g u st) (group_later u fs f)
  where
    last_by : (k : Value) (us : Values) (r : Result Value) → onward (onward r (λ j. return (joined us (one_value j)))) (λ ks. return (k and ks)) ≡ onward r (λ j. return (joined (k and us) (one_value j)))
    last_by k us (gives j s) = refl
    last_by k us (stops w s) = refl

    then_by : (k : Value) (r : Result Values) → onward (onward r (one_later u f)) (λ ks. return (k and ks)) ≡ onward (onward r (λ ks. return (k and ks))) (one_later u f)
    then_by k (gives us s) = last_by k us (f u s)
    then_by k (stops w s) = refl

    at : (r : Result Value) → ((s : State) → group_keys u (fs ++ (f ∷ [])) s ≡ onward (group_keys u fs s) (one_later u f)) → onward r (λ k. group_keys u (fs ++ (f ∷ [])) >>= λ ks. return (k and ks)) ≡ onward (onward r (λ k. group_keys u fs >>= λ ks. return (k and ks))) (one_later u f)
    at (gives k s) h = ap (λ (r : Result Values). onward r (λ ks. return (k and ks))) (h s) ∙ then_by k (group_keys u fs s)
    at (stops w s) h = refl

-- a group alone, as an object pattern has it
pub group_ends : (u : Value) (ks : Values) (fs : List Putter) (st : State) → members_of u ks (all_keyed fs) st ≡ onward (group_keys u fs st) (λ us. return undefined)
group_ends u ks [] st = refl
group_ends u ks (f ∷ fs) st = at (f u st) (λ k. group_ends u (joined ks (one_value k)) fs)
  where
    last_by : (k : Value) (r : Result Values) → onward r (λ us. return undefined) ≡ onward (onward r (λ us. return (k and us))) (λ us. return undefined)
    last_by k (gives us s) = refl
    last_by k (stops w s) = refl

    at : (r : Result Value) → ((k : Value) (s : State) → members_of u (joined ks (one_value k)) (all_keyed fs) s ≡ onward (group_keys u fs s) (λ us. return undefined)) →
        onward r (λ k. members_of u (joined ks (one_value k)) (all_keyed fs)) ≡ onward (onward r (λ k. group_keys u fs >>= λ us. return (k and us))) (λ us. return undefined)
    at (gives k s) h = h k s ∙ last_by k (group_keys u fs s)
    at (stops w s) h = refl

pub keyed_later : (fs : List Putter) (f : Putter) (ms : List Member) → all_keyed (fs ++ (f ∷ [])) ++ ms ≡ all_keyed fs ++ (keyed f ∷ ms)
keyed_later [] f ms = refl
keyed_later (g ∷ fs) f ms = ap (λ (ns : List Member). keyed g ∷ ns) (keyed_later fs f ms)

pub joined_assoc : (us vs ks : Values) → joined (joined us vs) ks ≡ joined us (joined vs ks)
joined_assoc none vs ks = refl
joined_assoc (u and us) vs ks = ap (λ (zs : Values). u and zs) (joined_assoc us vs ks)

-- a property whose key is read: first the key, and then the property with this value for a key
pub property_key : (key : M Value) (target : M Putter) (u : Value) (K : Value → M Value) (st : State) → onward (property_of key None target u st) K ≡ onward (key st) (λ k. property_of (return k) None target u >>= K)
property_key key target u K st = at (key st)
  where
    at : (r : Result Value) → onward (onward r (λ k. target >>= λ put. ask (get u k) >>= put >>= λ z. return k)) K ≡ onward r (λ k. property_of (return k) None target u >>= K)
    at (gives k s) = refl
    at (stops w s) = refl

-- WHAT A PROPERTY GIVES is what it leaves out

abbrev pub Yields : Value → Result Value → Type 0
Yields x (gives a s) = a ≡ x
Yields x (stops w s) = Unit {0}

yields_by : (x : Value) (r : Result Value) → Yields x (onward r (λ z. return x))
yields_by x (gives a s) = refl
yields_by x (stops w s) = tt

asked_by : (x : Value) (put : Putter) (r : Result Value) → Yields x (onward (onward r put) (λ z. return x))
asked_by x put r = yields_by x (onward r put)

aimed_by : (x u j : Value) (r : Result Putter) → Yields x (onward r (λ put. ask (get u j) >>= put >>= λ z. return x))
aimed_by x u j (gives put s) = asked_by x put (ask (get u j) s)
aimed_by x u j (stops w s) = tt

pub text_yields : (key : M Value) (t : Text) (target : M Putter) (u : Value) (st : State) → Yields (text t) (property_of key (Some t) target u st)
text_yields key t target u st = at (key st)
  where
    at : (r : Result Value) → Yields (text t) (onward r (λ k. target >>= λ put. ask (get u k) >>= put >>= λ z. return (text t)))
    at (gives k s) = aimed_by (text t) u k (target s)
    at (stops w s) = tt

pub key_yields : (k : Value) (target : M Putter) (u : Value) (st : State) → Yields k (property_of (return k) None target u st)
key_yields k target u st = aimed_by k u k (target st)

abbrev pub IsFirst : {A B : Type 0} → A → A → B → Type 0
IsFirst x a b = a ≡ x

pub yields_alike : (F : Frame) (x : Value) {m n : M Value} → ((st : State) → Yields x (m st)) → Alike F Equal m n → Alike F (IsFirst x) m n
yields_alike F x {m} y h s t g = at (m s) (y s) (h s t g)
  where
    at : {q : Result Value} (r : Result Value) → Yields x r → Same F Equal r q → Same F (IsFirst x) r q
    at (gives a s) e (both_give equal i) = both_give e i
    at (stops w s) e (both_stop i) = both_stop i
    at (stops w s) e outside = outside
    at (stops w s) e (at_fault i) = at_fault i

-- one property more, in both
pub group_alike_later : (F : Frame) (u : Value) (fs gs : List Putter) (us : Values) (f g : Putter) (x : Value) → Alike F (IsFirst us) (group_keys u fs) (group_keys u gs) → Alike F (IsFirst x) (f u) (g u) →
    Alike F (IsFirst (joined us (one_value x))) (group_keys u (fs ++ (f ∷ []))) (group_keys u (gs ++ (g ∷ [])))
group_alike_later F u fs gs us f g x h i = alike_by F (group_later u fs f) (group_later u gs g) (bind_alike F h (λ a b e. bind_alike F i (λ j k d. λ s t z. both_give (ap (λ (vs : Values). joined vs (one_value j)) e ∙ ap (λ (y : Value). joined us (one_value y)) d) z)))

-- THE NAMES OF KEYS

module _ (hidden : Text → Bool) (s : Text) (u : Value) where
  -- from states that agree so on, whatever names hold in the end
  abbrev pub Leads : (known : List (Text × Value)) {A B : Type 0} (R : A → B → Type 0) → M A → M B → Type 0
  Leads known R m n = (a b : State) → Agree (held hidden s u known) a b → Same (any_cells hidden) R (m a) (n b)

  pub leads_by : (known : List (Text × Value)) {A B : Type 0} {R : A → B → Type 0} {m n : M A} {k l : M B} → ((st : State) → n st ≡ m st) → ((st : State) → l st ≡ k st) → Leads known R m k → Leads known R n l
  leads_by known f g h a b i = rw (f a, g b) (h a b i)

  pub then_leads : (known : List (Text × Value)) {A B C D : Type 0} {R : A → B → Type 0} {Q : C → D → Type 0} {m : M A} {n : M B} {k : A → M C} {l : B → M D} → Alike (held hidden s u known) R m n → ((a : A) (b : B) → R a b → Leads known Q (k a) (l b)) → Leads known Q (m >>= k) (n >>= l)
  then_leads known {R = R} {Q = Q} {k = k} {l = l} h f a b i = at (h a b i)
    where
      at : {r : Result _} {q : Result _} → Same (held hidden s u known) R r q → Same (any_cells hidden) Q (onward r k) (onward q l)
      at (both_give {a = x} {b = y} {s = p} {t = q} e j) = f x y e p q j
      at (both_stop j) = both_stop (soft hidden s u known j)
      at outside = outside
      at (at_fault e) = absurd (cc e)

  pub then_leads_equal : (known : List (Text × Value)) {A C D : Type 0} {Q : C → D → Type 0} {m n : M A} {k : A → M C} {l : A → M D} → Alike (held hidden s u known) Equal m n → ((a : A) → Leads known Q (k a) (l a)) → Leads known Q (m >>= k) (n >>= l)
  then_leads_equal known {A = A} {Q = Q} {k = k} {l = l} h f = then_leads known h same
    where
      same : (a b : A) → Equal a b → Leads known Q (k a) (l b)
      same a _ equal = f a

  -- a name that is set holds the value from then on
  module _ (known : List (Text × Value)) (x : Text) (k : Value) (hidden_x : hidden x ≡ true) (soft_x : only s x ≡ false) where
    apart_by : (f : Text → Bool) (b : Bool) → f x ≡ b → (y : Text) (c : Bool) → f y ≡ c → (b ≡ c → ⊥) → bytes_eq y x ≡ false
    apart_by f b e y c g apart = at (bytes_eq y x) refl
      where
        at : (z : Bool) → bytes_eq y x ≡ z → z ≡ false
        at false i = refl
        at true i = let j : y ≡ x = (bytes_eq-Decides y x).0 i in absurd (apart (sym e ∙ (sym (ap f j) ∙ g)))

    set_fits : (d : Text → Cell) (y : Text) → ((j : Value) → value_of known y ≡ Some j → d y ≡ holds j) → (b : Bool) (j : Value) → (if b then Some k else value_of known y) ≡ Some j → (if b then holds k else d y) ≡ holds j
    set_fits d y h true j e = cc e
    set_fits d y h false j e = h j e

    pub leads_set : {A : Type 0} {R : A → Value → Type 0} (m : M A) (n : M Value) → Leads ((x, k) ∷ known) R m n → Leads known R m (set_cell x k >>= λ z. n)
    leads_set m n h _ _ (agree {c = c} {d = d} {ms = ms} {qs = qs} f g i) = h (state c ms qs) (state (with_cell x k d) ms qs)
        (agree (λ y e. rw (apart_by hidden true hidden_x y false e (λ z. absurd (cc z))) (f y e)) (λ y e. set_fits d y (g y e) (bytes_eq y x)) (λ y e. rw (apart_by (only s) false soft_x y true e (λ z. absurd (cc z))) (i y e)))

    kept_fits : value_of known x ≡ None → (y : Text) (z : Cell) (b : Bool) → bytes_eq y x ≡ b → ((j : Value) → (if b then Some k else value_of known y) ≡ Some j → z ≡ holds j) → (j : Value) → value_of known y ≡ Some j → z ≡ holds j
    kept_fits new y z true e h j i = let same : y ≡ x = (bytes_eq-Decides y x).0 e in let none_there : value_of known y ≡ None = ap (value_of known) same ∙ new in absurd (cc (none_there, i))
    kept_fits new y z false e h j i = h j i

    -- what is known besides is known still
    pub forget : value_of known x ≡ None → {a b : State} → Agree (held hidden s u ((x, k) ∷ known)) a b → Agree (held hidden s u known) a b
    forget new (agree {d = d} f g i) = agree f (λ y e. kept_fits new y (d y) (bytes_eq y x) refl (g y e)) i

  -- the name of a key is read
  pub reads_name : (known : List (Text × Value)) (x : Text) (k : Value) → hidden x ≡ true → value_of known x ≡ Some k → (v : World) → is_bound (v.scope x) ≡ true → {A : Type 0} {R : A → Value → Type 0} (m : M A) (P : Value → M Value) → Alike (held hidden s u known) R m (P k) → Alike (held hidden s u known) R m (value v (name x) >>= P)
  reads_name known x k hidden_x e v bound m P h _ _ (agree {c = c} {d = d} {ms = ms} {qs = qs} f g i) =
      rw (read_bound (v.scope x) x d ms qs k bound (g x hidden_x k e)) (h (state c ms qs) (state d ms qs) (agree f g i))

  -- WHAT KEYS GIVE, where their names are read again

  module _ (v : World) where
    abbrev pub reader : Key → Putter
    reader (text_key t) z = return (text t)
    reader (name_key x) z = value v (name x)

    abbrev pub readers : List Key → List Putter
    readers [] = []
    readers (k ∷ ks) = reader k ∷ readers ks

    abbrev pub Gives : List (Text × Value) → List Key → Values → Type 0
    Gives known ks us = (a b : State) → Agree (held hidden s u known) a b → group_keys u (readers ks) b ≡ gives us b

    readers_later : (ks : List Key) (k : Key) → readers (ks ++ (k ∷ [])) ≡ readers ks ++ (reader k ∷ [])
    readers_later [] k = refl
    readers_later (j ∷ ks) k = ap (λ (fs : List Putter). reader j ∷ fs) (readers_later ks k)

    gives_later : (known : List (Text × Value)) (ks : List Key) (us : Values) (k : Key) (j : Value) → Gives known ks us → ((a b : State) → Agree (held hidden s u known) a b → reader k u b ≡ gives j b) → Gives known (ks ++ (k ∷ [])) (joined us (one_value j))
    gives_later known ks us k j h g a b i =
        ap (λ (fs : List Putter). group_keys u fs b) (readers_later ks k)
        ∙ (group_later u (readers ks) (reader k) b
        ∙ (ap (λ (r : Result Values). onward r (one_later u (reader k))) (h a b i)
        ∙ ap (λ (r : Result Value). onward r (λ z. return (joined us (one_value z)))) (g a b i)))

    pub gives_text : (known : List (Text × Value)) (ks : List Key) (us : Values) (t : Text) → Gives known ks us → Gives known (ks ++ (text_key t ∷ [])) (joined us (one_value (text t)))
    gives_text known ks us t h = gives_later known ks us (text_key t) (text t) h (λ a b i. refl)

    pub gives_name : (known : List (Text × Value)) (ks : List Key) (us : Values) (x : Text) (k : Value) → hidden x ≡ true → only s x ≡ false → is_bound (v.scope x) ≡ true → value_of known x ≡ None → Gives known ks us →
        Gives ((x, k) ∷ known) (ks ++ (name_key x ∷ [])) (joined us (one_value k))
    gives_name known ks us x k hidden_x soft_x bound new h = gives_later ((x, k) ∷ known) ks us (name_key x) k (λ a b i. h a b (forget known x k hidden_x soft_x new i)) named
      where
        named : (a b : State) → Agree (held hidden s u ((x, k) ∷ known)) a b → value v (name x) b ≡ gives k b
        named _ _ (agree {d = d} {ms = ms} {qs = qs} f g i) = read_bound (v.scope x) x d ms qs k bound (g x hidden_x k (rw (bytes_eq-self x) refl))
