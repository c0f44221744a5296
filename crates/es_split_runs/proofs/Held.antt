-- A frame in which a name that nothing writes holds this value, and object patterns in parts there.
use Rattle.std.proofs.Common.{◌≡◌, ◌∙◌, refl, sym, ap, List, [], ◌∷◌, ◌++◌}
use Rattle.std.specs.Prelude.{Bool, true, false, Option, Some, None, codes, bytes_eq, if◌then◌else◌}
use Rattle.std.proofs.lemmas.Slice.Eq.{bytes_eq-Decides}
use Rattle.es_tree.specs.Words.{Text}
use Rattle.es_tree.specs.Tree.{Trees, empty, ◌before◌}
use Rattle.es_runs.specs.Machine.{Value, Values, Cell, M, Move, Question, ◌>>=◌, return, stop, ask, onward, Result, State, is_nullish, joined}
use Rattle.es_runs.specs.Machine.Cell.{holds, unset}
use Rattle.es_runs.specs.Machine.OwnValue.{pattern_error}
use Rattle.es_runs.specs.Machine.Question.{get}
use Rattle.es_runs.specs.Machine.Result.{gives, stops}
use Rattle.es_runs.specs.Machine.State.{state}
use Rattle.es_runs.specs.Machine.Stop.{throws}
use Rattle.es_runs.specs.Machine.Value.{text, own}
use Rattle.es_runs.specs.Machine.Values.{none}
use Rattle.es_runs.specs.Core.{World, name, value}
use Rattle.es_runs.specs.Alike.{Agree, Alike, Equal, Frame, Same, SameWorld, bad_names}
use Rattle.es_runs.specs.Alike.Agree.{agree}
use Rattle.es_runs.specs.Alike.Same.{both_give, both_stop, outside, at_fault}
use Rattle.es_runs.specs.Runs.{only}
use Rattle.es_runs.proofs.Basic.{then_alike}
use Rattle.es_runs.proofs.Temporary.{bytes_eq-self}
use Rattle.es_statement_runs.specs.Alike.{MoreLike, PutterLike, Quiet, SensesLike, StackSeen}
use Rattle.es_statement_runs.specs.Alike.MoreLike.{same_member}
use Rattle.es_statement_runs.specs.Alike.SensesLike.{no_sense, sense_and}
use Rattle.es_statement_runs.specs.Helpers.{Supply}
use Rattle.es_statement_runs.specs.Helpers.Supply.{no_helpers, by_global, by_import, by_require, spread_by_global}
use Rattle.es_statement_runs.specs.Kinds.{sense, senses}
use Rattle.es_statement_runs.specs.Laws.{any_cells, followed}
use Rattle.es_statement_runs.specs.Patterns.{Member, Putter, members_of, object_pattern, one_value, property_of}
use Rattle.es_statement_runs.specs.Patterns.Member.{keyed}
use Rattle.es_statement_runs.specs.Places.{SupplySeen, Take, avoids, avoids_trees, more_taken, placed_at}
use Rattle.es_statement_runs.specs.Scopes.{is_own_cell, stack_cell}
use Rattle.es_statement_runs.specs.Senses.{Place, member_of, members_in}
use Rattle.es_statement_runs.specs.Senses.More.{member_aims}
use Rattle.es_statement_runs.proofs.Everywhere.{both_left, both_right}
use Rattle.es_statement_runs.proofs.OwnCells.{own_apart}
use Rattle.es_split_runs.specs.Laws.{Properties}
use Rattle.es_split_runs.specs.Laws.Properties.{no_property, one_property}
use Rattle.es_split_runs.proofs.Declarators.{Both, is_bound, read_bound, read_unset, regroup}

-- PROPERTIES

pub followed_avoids : (bad : Rattle.es_runs.specs.Alike.Level → Text → Bool) (t : Take) (xs ys : Trees) → avoids_trees bad t (followed xs ys) ≡ true → (avoids_trees bad t xs ≡ true) × (avoids_trees bad t ys ≡ true)
followed_avoids bad t empty ys h = (refl, h)
followed_avoids bad t (x before xs) ys h =
    let k = followed_avoids bad t xs ys (both_right (avoids bad t x) (avoids_trees bad t (followed xs ys)) h) in
    (rw (both_left (avoids bad t x) (avoids_trees bad t (followed xs ys)) h, k.0) refl, k.1)

abbrev pub Members : Place → Trees → List Member
Members p ts = members_in (senses p ts)

pub members_followed : (p : Place) (ps qs : Trees) → Members p (followed ps qs) ≡ Members p ps ++ Members p qs
members_followed p empty qs = refl
members_followed p (t before ps) qs = ap (λ (ms : List Member). member_of (sense p t).more ∷ ms) (members_followed p ps qs)

pub member_same : {F : Frame} {f g : Putter} → MoreLike F (member_aims f) (member_aims g) → PutterLike F f g
member_same (same_member h) = h

-- what a property leaves out, by its key's value
abbrev pub left_out : Option Text → Value → Value
left_out (Some t) k = text t
left_out None k = k

-- a property, and what goes on with what it leaves out
pub property_then : (key : M Value) (t : Option Text) (target : M Putter) (u : Value) (K : Value → M Value) (st : State) →
    onward (property_of key t target u st) K ≡ onward (key st) (λ k. target >>= λ put. ask (get u k) >>= λ g. put g >>= λ z. K (left_out t k))
property_then key t target u K st = by t
  where
    last_by : (k : Value) (r : Result Value) → onward (onward r (λ z. return k)) K ≡ onward r (λ z. K k)
    last_by k (gives a s) = refl
    last_by k (stops w s) = refl

    asked : (k : Value) (put : Putter) (r : Result Value) → onward (onward (onward r put) (λ z. return k)) K ≡ onward r (λ g. put g >>= λ z. K k)
    asked k put (gives g s) = last_by k (put g s)
    asked k put (stops w s) = refl

    aimed : (k j : Value) (r : Result Putter) → onward (onward r (λ put. ask (get u j) >>= put >>= λ z. return k)) K ≡ onward r (λ put. ask (get u j) >>= λ g. put g >>= λ z. K k)
    aimed k j (gives put s) = asked k put (ask (get u j) s)
    aimed k j (stops w s) = refl

    keyed_by : (t : Option Text) (r : Result Value) → onward (onward r (λ k. target >>= λ put. ask (get u k) >>= put >>= λ z. return (left_out t k))) K ≡ onward r (λ k. target >>= λ put. ask (get u k) >>= λ g. put g >>= λ z. K (left_out t k))
    keyed_by t (gives k s) = aimed (left_out t k) k (target s)
    keyed_by t (stops w s) = refl

    by : (t : Option Text) → onward (property_of key t target u st) K ≡ onward (key st) (λ k. target >>= λ put. ask (get u k) >>= λ g. put g >>= λ z. K (left_out t k))
    by (Some t) = keyed_by (Some t) (key st)
    by None = keyed_by None (key st)

keyed_then : (F : Frame) (u : Value) (N : M Value) (f g : Putter) → PutterLike F f g → (X Y : List Member) → ((ks ls : Values) → Alike F Both (members_of u ks X) (members_of u ls Y >>= λ z. N)) → (ks ls : Values) →
    Alike F Both (members_of u ks (keyed f ∷ X)) (members_of u ls (keyed g ∷ Y) >>= λ z. N)
keyed_then F u N f g e X Y h ks ls = regroup F (members_of u ks (keyed f ∷ X)) (g u) (λ k. members_of u (joined ls (one_value k)) Y) N (then_alike F (e u) (λ k. h (joined ks (one_value k)) (joined ls (one_value k))))

module _ (F : Frame) (w v : World) where
  -- properties alone leave nothing of what they leave out to those behind
  pub properties_alike : (o : Supply) (u : Value) {ps : Trees} → Properties ps → SensesLike F w v more_taken (senses (placed_at o w [] []) ps) (senses (placed_at o v [] []) ps) → (ks ls : Values) →
      Alike F Both (members_of u ks (Members (placed_at o w [] []) ps)) (members_of u ls (Members (placed_at o v [] []) ps))
  properties_alike o u no_property no_sense ks ls = λ s t g. both_give tt g
  properties_alike o u (one_property h) (sense_and g gs) ks ls = then_alike F (member_same (g.more refl) u) (λ k. properties_alike o u h gs (joined ks (one_value k)) (joined ls (one_value k)))

  -- properties, and then the same
  pub properties_then : (o : Supply) (u : Value) (N : M Value) (X Y : List Member) → ((ks ls : Values) → Alike F Both (members_of u ks X) (members_of u ls Y >>= λ z. N)) →
      {ps : Trees} → Properties ps → SensesLike F w v more_taken (senses (placed_at o w [] []) ps) (senses (placed_at o v [] []) ps) → (ks ls : Values) →
      Alike F Both (members_of u ks (Members (placed_at o w [] []) ps ++ X)) (members_of u ls (Members (placed_at o v [] []) ps ++ Y) >>= λ z. N)
  properties_then o u N X Y h no_property no_sense ks ls = h ks ls
  properties_then o u N X Y h (one_property {ps = ps} p) (sense_and g gs) ks ls = keyed_then F u N _ _ (member_same (g.more refl)) (Members (placed_at o w [] []) ps ++ X) (Members (placed_at o v [] []) ps ++ Y) (λ ks ls. properties_then o u N X Y h p gs ks ls) ks ls

-- THE FRAME

-- what these names hold is known
abbrev pub value_of : List (Text × Value) → Text → Option Value
value_of [] y = None
value_of (e ∷ es) y = if bytes_eq y e.0 then Some e.1 else value_of es y

abbrev pub held : (Text → Bool) → Text → Value → List (Text × Value) → Frame
held hidden s u known = record { hidden = hidden; fits = λ c x d. (k : Value) → value_of known x ≡ Some k → d ≡ holds k; frozen = only s; keeps = λ y d. d ≡ holds u; faults_outside = false; loose = λ y. false; steady = λ c e h x k d g. g }

module _ (hidden : Text → Bool) (s : Text) (u : Value) (known : List (Text × Value)) where
  pub held_quiet : hidden (codes "Math") ≡ false → ((y : Text) → is_own_cell y ≡ true → hidden y ≡ false) → is_own_cell s ≡ false → Quiet (held hidden s u known)
  held_quiet math apart no_own = record { own_seen = λ y e i. record { hidden = apart y e; frozen = own_apart s y no_own e; loose = refl }; math = math }

  pub held_stack : ((y : Text) → is_own_cell y ≡ true → hidden y ≡ false) → is_own_cell s ≡ false → StackSeen (held hidden s u known)
  held_stack apart no_own = record { hidden = apart stack_cell refl; frozen = own_apart s stack_cell no_own refl; loose = refl }

  pub held_supply : (o : Supply) → SupplySeen (any_cells hidden) o → SupplySeen (held hidden s u known) o
  held_supply no_helpers h = tt
  held_supply spread_by_global h = record { global = h.global; require = h.require }
  held_supply by_global h = record { global = h.global; require = h.require }
  held_supply (by_import m) h = record { global = h.global; require = h.require }
  held_supply (by_require m) h = record { global = h.global; require = h.require }

  pub soft : {a b : State} → Agree (held hidden s u known) a b → Agree (any_cells hidden) a b
  soft (agree f g i) = agree f (λ y e. tt) (λ y e. tt)

  pub soften : {A B : Type 0} {R : A → B → Type 0} {r : Result A} {q : Result B} → Same (held hidden s u known) R r q → Same (any_cells hidden) R r q
  soften (both_give h g) = both_give h (soft g)
  soften (both_stop g) = both_stop (soft g)
  soften outside = outside
  soften (at_fault e) = absurd (cc e)

  -- where the name is bound, it gives the value
  pub reads_again : (v : World) → is_bound (v.scope s) ≡ true → {A : Type 0} {R : A → Value → Type 0} (m : M A) (P : Value → M Value) → Alike (held hidden s u known) R m (P u) → Alike (held hidden s u known) R m (value v (name s) >>= P)
  reads_again v bound m P h _ _ (agree {c = c} {d = d} {ms = ms} {qs = qs} f g i) =
      rw (read_bound (v.scope s) s d ms qs u bound (i s (bytes_eq-self s))) (h (state c ms qs) (state d ms qs) (agree f g i))

pub enters : (hidden : Text → Bool) (s : Text) (u : Value) → hidden s ≡ false → (c d : Text → Cell) (ms : List Move) (qs : List Question) → c s ≡ holds u → ((y : Text) → hidden y ≡ false → d y ≡ c y) → Agree (held hidden s u []) (state c ms qs) (state d ms qs)
enters hidden s u seen c d ms qs h f = agree f (λ y e k i. absurd (cc i)) (λ y e. let j : y ≡ s = (bytes_eq-Decides y s).0 e in ap d j ∙ (f s seen ∙ h))

module _ (hidden : Text → Bool) (s : Text) (seen : hidden s ≡ false) (v : World) (bound : is_bound (v.scope s) ≡ true) where
  -- where the name is read for the first time, it holds a value from then on, or both read it unset
  pub reads_first : (w : World) → SameWorld hidden w v → {R : Value → Value → Type 0} (P Q : Value → M Value) (N : M Value) → ((u : Value) → Alike (held hidden s u []) R (P u) (Q u >>= λ z. N)) →
      Alike (any_cells hidden) R (value w (name s) >>= P) ((value v (name s) >>= Q) >>= λ z. N)
  reads_first w same {R} P Q N h _ _ (agree {c = c} {d = d} {ms = ms} {qs = qs} f g i) = at (c s) refl
    where
      first_bound : is_bound (w.scope s) ≡ true
      first_bound = ap is_bound (sym (same.scope s seen)) ∙ bound

      at : (z : Cell) → c s ≡ z → Same (any_cells hidden) R ((value w (name s) >>= P) (state c ms qs)) (((value v (name s) >>= Q) >>= λ z. N) (state d ms qs))
      at unset e = rw (read_unset (w.scope s) s c ms qs first_bound e, read_unset (v.scope s) s d ms qs bound (f s seen ∙ e)) (both_stop (agree f (λ y k. tt) (λ y k. tt)))
      at (holds u) e = rw (read_bound (w.scope s) s c ms qs u first_bound e, read_bound (v.scope s) s d ms qs u bound (f s seen ∙ e)) (soften hidden s u [] (h u (state c ms qs) (state d ms qs) (enters hidden s u seen c d ms qs e f)))

-- an object pattern of these members and what goes on, where the value isn't nullish
pub pattern_then : (F : Frame) (u : Value) (X Y : List Member) (N : M Value) → (is_nullish u ≡ false → Alike F Both (members_of u none X) (members_of u none Y >>= λ z. N)) → Alike F Both (object_pattern X u) (object_pattern Y u >>= λ z. N)
pattern_then F u X Y N h = at (is_nullish u) refl
  where
    at : (b : Bool) → is_nullish u ≡ b → Alike F Both (if b then stop (throws (own pattern_error)) else members_of u none X) ((if b then stop (throws (own pattern_error)) else members_of u none Y) >>= λ z. N)
    at true e = λ s t g. both_stop g
    at false e = h e
