-- The object of a member whose call has it as receiver: it is evaluated once, and read again.
use Rattle.std.proofs.Common.{◌≡◌, refl, List, [], ◌∷◌, Option, Some, None, ap, subst, sym, ◌∙◌, ◌⊎◌, inl, inr}
use Rattle.std.specs.Prelude.{Bool, true, false, bytes_eq, if◌then◌else◌, ◌||◌, ◌&&◌, not}
use Rattle.es_tree.specs.Words.{Text}
use Rattle.es_tree.specs.Fresh.{is_among}
use Rattle.es_tree.specs.Names.{first_text}
use Rattle.es_tree.specs.Tree.{Tree, node, kind_of}
use Rattle.es_tree.specs.declared.ast_type.AstType.TheVariants.{Identifier, Super, ThisExpression}
use Rattle.es_runs.specs.Alike.{Frame, set_cells, Agree, Same, Alike, Equal, SameWorld}
use Rattle.es_runs.specs.Alike.Agree.{agree}
use Rattle.es_runs.specs.Alike.Equal.{equal}
use Rattle.es_runs.specs.Alike.Same.{both_give, both_stop, outside, at_fault}
use Rattle.es_runs.specs.Core.{World, Meaning, Form, value, put_value, name, literal, nothing, is_free, meaning, read_cell, is_spread_kind}
use Rattle.es_runs.specs.Core.Binding.{changeable}
use Rattle.es_runs.specs.Core.Form.{other}
use Rattle.es_runs.specs.Core.Reference.{named}
use Rattle.es_runs.specs.Machine.{Value, M, onward, stop, State, Stop, Result, Cell, is_true}
use Rattle.es_runs.specs.Machine.State.{state}
use Rattle.es_runs.specs.Machine.Cell.{unset, holds}
use Rattle.es_runs.specs.Machine.Stop.{uncallable, cut}
use Rattle.es_runs.specs.Machine.Result.{gives, stops}
use Rattle.es_runs.specs.OptionalChaining.{Receives, is_eval, is_this_or_super, or_held, this_node}
use Rattle.es_runs.specs.OptionalChaining.Receives.{by_this, by_name, by_temporary}
use Rattle.es_runs.specs.Duplication.{has_no_fields}
use Rattle.es_runs.specs.Rules.{strays}
use Rattle.es_runs.specs.Machine.Value.{undefined}
use Rattle.es_runs.specs.Runs.{cells, state_of, none_hidden, only}
use Rattle.es_runs.proofs.Duplicated.{Gives, holds_stored, read_names}
use Rattle.es_runs.proofs.Named.{and_left, and_right}
use Rattle.es_runs.proofs.NullishCoalescingValues.{cell_gives}
use Rattle.es_runs.proofs.Temporary.{agree_stored, bytes_eq-equal, bytes_eq-self, put_temporary}
use Rattle.es_runs.proofs.OptionalChainingNullChecks.{passes, passes_then, stores_value}
use Rattle.es_runs.proofs.OptionalChainingUncut.{tidy_store}

-- Source and result give the same value, which `again` then gives where the cells of these names stay.
pub data Held (hidden : Text → Bool) (v : World) (again : Meaning) (names : Text → Bool) : Result Value → Result Value → Type 0 where
  held : {s t : State} (u : Value) → Gives v again names u (cells t) → Agree (set_cells hidden) s t → Held hidden v again names (gives u s) (gives u t)
  neither : {m : Stop} {s t : State} → Agree (set_cells hidden) s t → Held hidden v again names (stops m s) (stops m t)
  not_called : {s : State} {r : Result Value} → Held hidden v again names (stops uncallable s) r

-- these names are hidden
abbrev pub Covers : (Text → Bool) → List Text → Type 0
Covers hidden xs = (y : Text) → is_among xs y ≡ true → hidden y ≡ true

-- a name is of the source, or one that was taken
abbrev pub Known : (Text → Bool) → List Text → Tree → Type 0
Known hidden taken (node Identifier l fs) = (hidden (first_text l.texts) ≡ false) ⊎ (is_among taken (first_text l.texts) ≡ true)
Known hidden taken _ = Unit {0}

-- the value that a result has
abbrev given : Result Value → Value
given (gives u s) = u
given (stops m s) = undefined

-- where tests let something through, it came from what they guard
pub passes_ends : (v : World) (P : Type 0) (ts : List Tree) {A : Type 0} (m : M A) (t : State) (u : A) (z : State) → passes v ts m t ≡ gives u z → ((s : State) → m s ≡ gives u z → P) → P
passes_ends v P [] m t u z e go = go t e
passes_ends v P (t1 ∷ ts) {A} m t u z e go = at (value v (meaning v t1) t) e (λ s k. passes_ends v P ts m s u z k go)
  where
    if_test : (b : Bool) (s : State) → (if b then stop {A = A} cut else passes v ts m) s ≡ gives u z → (passes v ts m s ≡ gives u z → P) → P
    if_test true s k rest = absurd (cc k)
    if_test false s k rest = rest k

    at : (r : Result Value) → onward r (λ b. if is_true b then stop {A = A} cut else passes v ts m) ≡ gives u z → ((s : State) → passes v ts m s ≡ gives u z → P) → P
    at (gives b s) k rest = if_test (is_true b) s k (rest s)
    at (stops n s) k rest = absurd (cc k)

module _ (hidden steady : Text → Bool) (w v : World) (same : SameWorld hidden w v) (vars : (y : Text) → hidden y ≡ true → v.scope y ≡ changeable) (steady_bound : (y : Text) → steady y ≡ true → is_free (w.scope y) ≡ false) where
  abbrev F : Frame
  F = set_cells hidden

  -- its cell stays where hidden and steady cells do
  abbrev pub KeptName : Text → Type 0
  KeptName z = (hidden z ≡ true) ⊎ (steady z ≡ true)

  pub hidden_bound : (y : Text) → hidden y ≡ true → is_free (v.scope y) ≡ false
  hidden_bound y h = rw (vars y h) refl

  pub seen_bound : (y : Text) → hidden y ≡ false → is_free (w.scope y) ≡ false → is_free (v.scope y) ≡ false
  seen_bound y h e = rw (same.scope y h) e

  -- A NAME

  module _ (y : Text) (bound : is_free (v.scope y) ≡ false) where
    gave_cell : (s : State) (u : Value) (z : State) → value v (name y) s ≡ gives u z → cells z y ≡ holds u
    gave_cell (state c ms qs) u z e = at (c y) refl (sym (cell_gives hidden w v same y v (v.scope y) bound refl c ms qs (c y) refl) ∙ e)
      where
        at : (o : Cell) → c y ≡ o → read_cell y o (state c ms qs) ≡ gives u z → cells z y ≡ holds u
        at unset i k = absurd (cc k)
        at (holds a) i k = sym (ap (λ r. cells (state_of r) y) k) ∙ (i ∙ ap (λ r. holds (given r)) k)

    gives_again : (u : Value) (z : State) → cells z y ≡ holds u → Gives v (name y) (only y) u (cells z)
    gives_again u z e (state c ms qs) k = cell_gives hidden w v same y v (v.scope y) bound refl c ms qs (holds u) (k y (bytes_eq-self y) ∙ e)

    held_name : (ts : List Tree) (t : State) {p : Result Value} (q : Result Value) → passes v ts (value v (name y)) t ≡ q → Same F Equal p q → Held hidden v (name y) (only y) p q
    held_name ts t _ e (both_give {a = u} {t = z} equal g) = held u (gives_again u z (passes_ends v (cells z y ≡ holds u) ts (value v (name y)) t u z e (λ s k. gave_cell s u z k))) g
    held_name ts t _ e (both_stop g) = neither g
    held_name ts t _ e outside = not_called
    held_name ts t _ e (at_fault h0) = absurd (cc h0)

  -- A TEMPORARY

  held_temporary : (x : Text) → hidden x ≡ true → {p q : Result Value} → Same F Equal p q → Held hidden v (name x) (only x) p (onward q (put_value v (named x)))
  held_temporary x h (both_give {a = u} equal (agree {d = d} {ms = ms} {qs = qs} f g k)) =
      rw (put_temporary v x u d ms qs (vars x h) (g x h)) (held u (holds_stored hidden steady v x h (vars x h) u d) (agree_stored hidden x u h f g))
  held_temporary x h (both_stop g) = neither g
  held_temporary x h outside = not_called
  held_temporary x h (at_fault h0) = absurd (cc h0)

  -- THIS

  held_this : (f : Form) (ts : List Tree) (t : State) {p : Result Value} (q : Result Value) → passes v ts (value v (literal v.this f)) t ≡ q → Same F Equal p q → Held hidden v (literal v.this f) none_hidden p q
  held_this f ts t _ e (both_give {a = u} {t = z} equal g) =
      held u (passes_ends v (Gives v (literal v.this f) none_hidden u (cells z)) ts (value v (literal v.this f)) t u z e (λ s k. this_again s k)) g
    where
      this_again : (s : State) → gives v.this s ≡ gives u z → Gives v (literal v.this f) none_hidden u (cells z)
      this_again s k r h = ap (λ q. gives (given q) r) k
  held_this f ts t _ e (both_stop g) = neither g
  held_this f ts t _ e outside = not_called
  held_this f ts t _ e (at_fault h0) = absurd (cc h0)

  -- what gives nothing
  held_nothing : (again : Meaning) (ts : List Tree) (t : State) {p : Result Value} (q : Result Value) → passes v ts (value v nothing) t ≡ q → Same F Equal p q → Held hidden v again none_hidden p q
  held_nothing again ts t _ e (both_give {a = u} {t = z} equal g) = passes_ends v (Held hidden v again none_hidden (gives u _) (gives u z)) ts (value v nothing) t u z e (λ s k. absurd (cc k))
  held_nothing again ts t _ e (both_stop g) = neither g
  held_nothing again ts t _ e outside = not_called
  held_nothing again ts t _ e (at_fault h0) = absurd (cc h0)

  -- WHAT RECEIVES

  name_kept : (holder : Option Text) → ((y : Text) → holder ≡ Some y → hidden y ≡ true) → (y : Text) → or_held holder steady y ≡ true → KeptName y
  name_kept None stored y h = inr h
  name_kept (Some x) stored y h = at (bytes_eq y x) refl h
    where
      at : (b : Bool) → bytes_eq y x ≡ b → (b || steady y) ≡ true → KeptName y
      at true e k = let i : y ≡ x = bytes_eq-equal y x e in inl (rw i (stored x refl))
      at false e k = inr k

  kept_bound : (y : Text) → KeptName y → is_free (v.scope y) ≡ false
  kept_bound y (inl h) = hidden_bound y h
  kept_bound y (inr h) = at (hidden y) refl
    where
      at : (b : Bool) → hidden y ≡ b → is_free (v.scope y) ≡ false
      at true e = hidden_bound y e
      at false e = seen_bound y e (steady_bound y h)

  pub record Received (o o1 r : Tree) : Type 0 where
    pub kept : (z : Text) → read_names r z ≡ true → KeptName z
    pub held : (ts : List Tree) (m : M Value) → Alike F Equal m (passes v ts (value v (meaning v o))) → (s t : State) → Agree F s t → Held hidden v (meaning v r) (read_names r) (m s) (passes v ts (value v (meaning v o1)) t)
    pub tidy_object : strays false o1 ≡ false
    pub tidy_receiver : strays false r ≡ false
    pub unspread : is_spread_kind (kind_of r) ≡ false

  pub received : {to_this : Tree → Bool} {in_use : Text → Bool} {holder : Option Text} {xs : List Text} {o o1 r : Tree} → ((e : Tree) → to_this e ≡ true → is_this_or_super e ≡ true) → Receives to_this steady in_use holder xs o o1 r → ((y : Text) → holder ≡ Some y → hidden y ≡ true) → Covers hidden xs → strays false o ≡ false → Received o o1 r
  received thises (by_this {o = node ThisExpression l fs} h) stored own tidy = record {
    kept = λ z e. absurd (cc e);
    held = λ ts m a s t g. held_this other ts t _ refl (a s t g);
    tidy_object = tidy;
    tidy_receiver = refl;
    unspread = refl;
  }
  received thises (by_this {o = node Super l fs} h) stored own tidy = record {
    kept = λ z e. absurd (cc e);
    held = λ ts m a s t g. held_nothing (meaning v this_node) ts t _ refl (a s t g);
    tidy_object = tidy;
    tidy_receiver = refl;
    unspread = refl;
  }
  received thises (by_this {o = node k l fs} h) stored own tidy = absurd (cc (thises (node k l fs) h))
  received {holder = holder} thises (by_name {o = node Identifier l fs} h e) stored own tidy =
      let y : Text = first_text l.texts in
      let stays : KeptName y = name_kept holder stored y (and_right (has_no_fields fs) (or_held holder steady y) (and_left (has_no_fields fs && or_held holder steady y) (not (is_eval y)) e)) in
      record {
        kept = λ z k. let i : z ≡ y = bytes_eq-equal z y k in subst KeptName (sym i) stays;
        held = λ ts m a s t g. held_name y (kept_bound y stays) ts t _ refl (a s t g);
        tidy_object = tidy;
        tidy_receiver = tidy;
        unspread = refl;
      }
  received thises (by_name {o = node k l fs} h e) stored own tidy = absurd (cc e)
  received thises (by_temporary {o = o} {r = x} h e fresh) stored own tidy =
      let mine : hidden x ≡ true = own x (rw (bytes_eq-self x) refl) in
      record {
        kept = λ z k. let i : z ≡ x = bytes_eq-equal z x k in subst KeptName (sym i) (inl mine);
        held = λ ts m a s t g. subst (λ k. Held hidden v (name x) (only x) (m s) (k t)) (sym (ap (passes v ts) (stores_value v x o) ∙ sym (passes_then v ts (value v (meaning v o)) (put_value v (named x))))) (held_temporary x mine (a s t g));
        tidy_object = tidy_store x o tidy;
        tidy_receiver = refl;
        unspread = refl;
      }

  -- a name that is read again isn't the one that holds the callee
  pub apart : {to_this : Tree → Bool} {in_use : Text → Bool} {holder : Option Text} {xs : List Text} {o o1 r : Tree} (taken : List Text) (c : Text) → hidden c ≡ true → Receives to_this steady in_use holder xs o o1 r → Known hidden taken o →
      ((y : Text) → is_among taken y ≡ true → bytes_eq y c ≡ false) → ((y : Text) → is_among xs y ≡ true → bytes_eq y c ≡ false) → (z : Text) → read_names r z ≡ true → bytes_eq z c ≡ false
  apart taken c h (by_this e) known taken_apart own_apart z k = absurd (cc k)
  apart taken c h (by_name {o = node Identifier l fs} e i) known taken_apart own_apart z k = let j : z ≡ first_text l.texts = bytes_eq-equal z (first_text l.texts) k in rw j (known_apart known)
    where
      known_apart : (hidden (first_text l.texts) ≡ false) ⊎ (is_among taken (first_text l.texts) ≡ true) → bytes_eq (first_text l.texts) c ≡ false
      known_apart (inr t) = taken_apart (first_text l.texts) t
      known_apart (inl seen) = other (bytes_eq (first_text l.texts) c) refl
        where
          other : (b : Bool) → bytes_eq (first_text l.texts) c ≡ b → b ≡ false
          other true m = let n : first_text l.texts ≡ c = bytes_eq-equal (first_text l.texts) c m in let q : hidden (first_text l.texts) ≡ true = rw n h in absurd (cc (seen, q))
          other false m = refl
  apart taken c h (by_name {o = node q l fs} e i) known taken_apart own_apart z k = absurd (cc i)
  apart taken c h (by_temporary {r = x} e i fresh) known taken_apart own_apart z k = let j : z ≡ x = bytes_eq-equal z x k in rw j (own_apart x (rw (bytes_eq-self x) refl))
