-- An expression that is evaluated once and read again: written down again, or from a temporary.
use Rattle.std.proofs.Common.{◌≡◌, refl, List, [], ◌∷◌, ◌∙◌, ap, sym}
use Rattle.std.specs.Prelude.{Bool, true, false, bytes_eq, if◌then◌else◌, ◌||◌}
use Rattle.es_tree.specs.Words.{Text}
use Rattle.es_tree.specs.Names.{first_text}
use Rattle.es_tree.specs.Tree.{Tree, node}
use Rattle.es_tree.specs.declared.ast_type.AstType.TheVariants.{Identifier, ThisExpression, Super, NullLiteral, BooleanLiteral, NumericLiteral, BigIntLiteral, StringLiteral, TemplateLiteral}
use Rattle.es_tree.specs.Fresh.{also}
use Rattle.es_runs.specs.Machine.{Value, M, onward, State, Stop, Result, Cell, with_cell, is_set}
use Rattle.es_runs.specs.Machine.State.{state}
use Rattle.es_runs.specs.Machine.Cell.{unset, holds}
use Rattle.es_runs.specs.Machine.Stop.{uncallable}
use Rattle.es_runs.specs.Machine.Result.{gives, stops}
use Rattle.es_runs.specs.Core.{World, Meaning, Form, value, gives_value, put_value, name, literal, is_free, meaning, flag, second, number_form}
use Rattle.es_runs.specs.Core.Form.{other, null_form}
use Rattle.es_runs.specs.Machine.Value.{null, boolean, number, bigint, text}
use Rattle.es_runs.specs.Duplication.{IsDuplicated, has_no_fields, is_read_again}
use Rattle.es_runs.specs.Duplication.IsDuplicated.{read_again, by_temporary}
use Rattle.es_runs.specs.Core.Binding.{changeable}
use Rattle.es_runs.specs.Core.Reference.{named}
use Rattle.es_runs.specs.Alike.{set_cells, kept_cells, Agree, Same, Alike, Equal, SameWorld, Level, Need, needs, Like, value_and_form, touches, touches_fields, bad_names}
use Rattle.es_runs.specs.Alike.Level.{no_evaluation, value_alone, an_operand_of_typeof, whole_reference, a_callee, a_target}
use Rattle.es_runs.specs.Alike.Agree.{agree}
use Rattle.es_runs.specs.Alike.Same.{both_give, both_stop, outside, at_fault}
use Rattle.es_runs.specs.Alike.Equal.{equal}
use Rattle.es_runs.specs.Runs.{cells, only, none_hidden}
use Rattle.es_runs.specs.NullishCoalescing.{also_all}
use Rattle.es_runs.proofs.NullishCoalescingValues.{cell_gives}
use Rattle.es_runs.proofs.Fresh.{or_left}
use Rattle.es_runs.proofs.MathWords.{NoMathIn}
use Rattle.es_runs.proofs.SameOthers.{AlwaysAlike, SameOthers, same_like, same_words}
use Rattle.es_runs.proofs.SameOthers.AlwaysAlike.{always_give, always_stop}
use Rattle.es_runs.proofs.Named.{and_left, or_both, or_first, or_second}
use Rattle.es_runs.proofs.Written.{one_of}
use Rattle.es_runs.proofs.Temporary.{plain_again, put_temporary, stored_here, stored_elsewhere, bytes_eq-equal, bytes_eq-self}

-- the cells of these names are set
abbrev pub AllSet : (Text → Bool) → (Text → Cell) → Type 0
AllSet hidden d = (x : Text) → hidden x ≡ true → is_set (d x) ≡ true

-- e gives u and changes nothing, wherever the cells of these names are those of d
abbrev pub Gives : World → Meaning → (Text → Bool) → Value → (Text → Cell) → Type 0
Gives v e names u d = (t : State) → ((x : Text) → names x ≡ true → cells t x ≡ d x) → value v e t ≡ gives u t

-- Source and result give the same value, which `again` then gives where the cells of these names stay. The hidden cells of the
-- result are those of d, which are those of d0 but for some names of its own.
pub data Twice (hidden frozen : Text → Bool) (v : World) (own : Text → Bool) (d0 : Text → Cell) (again : Meaning) (names : Text → Bool) : Result Value → Result Value → Type 0 where
  both_read : {s t : State} (u : Value) (d : Text → Cell) → AllSet hidden d → ((y : Text) → own y ≡ false → d y ≡ d0 y) → Gives v again names u d → Agree (kept_cells hidden frozen d) s t → Twice hidden frozen v own d0 again names (gives u s) (gives u t)
  neither_read : {m : Stop} {s t : State} → Agree (set_cells hidden) s t → Twice hidden frozen v own d0 again names (stops m s) (stops m t)
  not_called : {s : State} {r : Result Value} → Twice hidden frozen v own d0 again names (stops uncallable s) r

module _ (hidden frozen : Text → Bool) where
  -- cells that are kept are set, where they were
  pub kept_agree : (d : Text → Cell) → AllSet hidden d → (s t : State) → Agree (kept_cells hidden frozen d) s t → Agree (set_cells hidden) s t
  kept_agree d h s t (agree g e f) = agree g (λ x k. rw (e x k) (h x k)) (λ x k. cc)

  pub kept_same : (d : Text → Cell) → AllSet hidden d → {A B : Type 0} {R : A → B → Type 0} {r : Result A} {q : Result B} → Same (kept_cells hidden frozen d) R r q → Same (set_cells hidden) R r q
  kept_same d h (both_give e a) = both_give e (kept_agree d h _ _ a)
  kept_same d h (both_stop a) = both_stop (kept_agree d h _ _ a)
  kept_same d h outside = outside
  kept_same d h (at_fault h0) = at_fault h0

  -- the cells that there are now are kept
  pub now_kept : (s t : State) → Agree (set_cells hidden) s t → Agree (kept_cells hidden frozen (cells t)) s t
  now_kept s t (agree g e f) = agree g (λ x k. refl) (λ x k. refl)

  pub now_set : (s t : State) → Agree (set_cells hidden) s t → AllSet hidden (cells t)
  now_set s t (agree g e f) = e

  -- what comes after
  pub onward_twice : {v : World} {own : Text → Bool} {d0 : Text → Cell} {again : Meaning} {names : Text → Bool} {C D : Type 0} {Q : C → D → Type 0} {k : Value → M C} {l : Value → M D} {r q : Result Value} → Twice hidden frozen v own d0 again names r q →
      ((u : Value) (d : Text → Cell) → AllSet hidden d → ((y : Text) → own y ≡ false → d y ≡ d0 y) → Gives v again names u d → (s t : State) → Agree (kept_cells hidden frozen d) s t → Same (set_cells hidden) Q (k u s) (l u t)) →
      Same (set_cells hidden) Q (onward r k) (onward q l)
  onward_twice (both_read u d set rest read a) go = go u d set rest read _ _ a
  onward_twice (neither_read a) go = both_stop a
  onward_twice not_called go = outside

  -- A TEMPORARY

  module _ (v : World) (x : Text) (x_hidden : hidden x ≡ true) (x_var : v.scope x ≡ changeable) where
    still_set : (u : Value) (d : Text → Cell) → AllSet hidden d → AllSet hidden (with_cell x u d)
    still_set u d h y e = at (bytes_eq y x) (d y) (h y e)
      where
        at : (b : Bool) (o : Cell) → is_set o ≡ true → is_set (if b then holds u else o) ≡ true
        at true o k = refl
        at false o k = k

    other_name : (y : Text) (b : Bool) → hidden y ≡ false → bytes_eq y x ≡ b → b ≡ false
    other_name y false e h = refl
    other_name y true e h = let i : y ≡ x = bytes_eq-equal y x h in cc (ap hidden i)

    -- it holds what is stored, and gives it back
    pub holds_stored : (u : Value) (d : Text → Cell) → Gives v (name x) (only x) u (with_cell x u d)
    holds_stored u d (state c ms qs) h = rw (x_var, h x (bytes_eq-self x) ∙ stored_here x u d)

    pub stored_twice : (own : Text → Bool) → ((y : Text) → own y ≡ false → bytes_eq y x ≡ false) → (d0 : Text → Cell) → AllSet hidden d0 → {m q : Result Value} → Same (kept_cells hidden frozen d0) Equal m q → Twice hidden frozen v own d0 (name x) (only x) m (onward q (put_value v (named x)))
    stored_twice own mine d0 set (both_give {a = u} equal (agree {c = c} {d = d} {ms = ms} {qs = qs} h g f)) =
        let x_set : is_set (d x) ≡ true = rw (g x x_hidden) (set x x_hidden) in
        rw (put_temporary v x u d ms qs x_var x_set) (both_read u (with_cell x u d0) (still_set u d0 set) (λ y e. stored_elsewhere x y u d0 (mine y e)) (holds_stored u d0)
        (agree (λ y e. stored_elsewhere x y u d (other_name y (bytes_eq y x) e refl) ∙ h y e) (λ y e. rw (g y e)) (λ y e. rw (f y e))))
    stored_twice own mine d0 set (both_stop a) = neither_read (kept_agree d0 set _ _ a)
    stored_twice own mine d0 set outside = not_called
    stored_twice own mine d0 set (at_fault h0) = absurd (cc h0)

-- WHAT IS DOUBLED

pub none_frozen : (hidden frozen : Text → Bool) (level : Level) (x : Text) → bad_names hidden frozen level x ≡ false → bad_names hidden none_hidden level x ≡ false
none_frozen hidden frozen no_evaluation x h = refl
none_frozen hidden frozen value_alone x h = h
none_frozen hidden frozen an_operand_of_typeof x h = h
none_frozen hidden frozen whole_reference x h = h
none_frozen hidden frozen a_callee x h = h
none_frozen hidden frozen a_target x h = or_both (hidden x) false (or_left (hidden x) (frozen x) h) refl

-- the names whose cells a further reading depends on
abbrev pub read_names : Tree → Text → Bool
read_names (node Identifier l fs) = only (first_text l.texts)
read_names _ = none_hidden

module _ (hidden frozen : Text → Bool) (w v : World) (same : SameWorld hidden w v) (others : SameOthers hidden frozen w v) where
  -- a bound name
  bound_gives : (y : Text) → is_free (w.scope y) ≡ false → v.scope y ≡ w.scope y → (u : Value) (d : Text → Cell) → d y ≡ holds u → Gives v (name y) (only y) u d
  bound_gives y bound e u d h (state c ms qs) k = cell_gives hidden w v same y v (w.scope y) bound e c ms qs (holds u) (k y (bytes_eq-self y) ∙ h)

  bound_twice : (own : Text → Bool) (y : Text) → hidden y ≡ false → frozen y ≡ true → is_free (w.scope y) ≡ false → (d0 : Text → Cell) → AllSet hidden d0 → (s t : State) → Agree (kept_cells hidden frozen d0) s t → Twice hidden frozen v own d0 (name y) (only y) (value w (name y) s) (value v (name y) t)
  bound_twice own y seen still bound d0 set _ _ (agree {c = c} {d = d} {ms = ms} {qs = qs} h g f) = at (d0 y) refl
    where
      at : (o : Cell) → d0 y ≡ o → Twice hidden frozen v own d0 (name y) (only y) (value w (name y) (state c ms qs)) (value v (name y) (state d ms qs))
      at unset i = rw (cell_gives hidden w v same y w (w.scope y) bound refl c ms qs unset (sym (h y seen) ∙ (f y still ∙ i)), cell_gives hidden w v same y v (w.scope y) bound (same.scope y seen) d ms qs unset (f y still ∙ i)) (neither_read (kept_agree hidden frozen d0 set _ _ (agree h g f)))
      at (holds u) i = rw (cell_gives hidden w v same y w (w.scope y) bound refl c ms qs (holds u) (sym (h y seen) ∙ (f y still ∙ i)), cell_gives hidden w v same y v (w.scope y) bound (same.scope y seen) d ms qs (holds u) (f y still ∙ i)) (both_read u d0 set (λ z e. refl) (bound_gives y bound (same.scope y seen) u d0 i) (agree h g f))

  -- what gives the same value in every state
  pub constant_twice : (own : Text → Bool) (u : Value) (f : Form) (d0 : Text → Cell) → AllSet hidden d0 → (s t : State) → Agree (kept_cells hidden frozen d0) s t → Twice hidden frozen v own d0 (literal u f) none_hidden (gives u s) (gives u t)
  constant_twice own u f d0 set s t a = both_read u d0 set (λ y e. refl) (λ z h. refl) a

  -- and so does what isn't core, or it stops
  always_twice : (own : Text → Bool) {m k : M Value} → AlwaysAlike m k → (d0 : Text → Cell) → AllSet hidden d0 → (s t : State) → Agree (kept_cells hidden frozen d0) s t → Twice hidden frozen v own d0 (gives_value k) none_hidden (value w (gives_value m) s) (value v (gives_value k) t)
  always_twice own (always_give {u = u} e f) d0 set s t a = rw (e, f) (constant_twice own u other d0 set s t a)
  always_twice own (always_stop e f) d0 set s t a = rw (e, f) (neither_read (kept_agree hidden frozen d0 set s t a))

  this_twice : (own : Text → Bool) (i j : Value) → j ≡ i → (d0 : Text → Cell) → AllSet hidden d0 → (s t : State) → Agree (kept_cells hidden frozen d0) s t → Twice hidden frozen v own d0 (literal j other) none_hidden (gives i s) (gives j t)
  this_twice own i j e d0 set s t a = rw e (constant_twice own i other d0 set s t a)

  -- a node in which no hidden name is evaluated and no frozen one written, in cells that are kept
  pub kept_like : (d : Text → Cell) (n : Need) (e : Tree) → touches (bad_names hidden frozen) n e ≡ false → Like (kept_cells hidden frozen d) w v n (meaning w e) (meaning v e)
  kept_like d n e h = same_like (kept_cells hidden frozen d) w v same (bad_names hidden frozen) (λ m x k. k) (others.alike d) others.spreads e n h

  others_seen : (n : Need) (t : Tree) → touches (bad_names hidden frozen) n t ≡ false → Alike (set_cells hidden) Equal (w.other t) (v.other t)
  others_seen n t h s z a = kept_same hidden frozen (cells z) (now_set hidden frozen s z a) (others.alike (cells z) n t h s z (now_kept hidden frozen s z a))

  -- or in cells that are set
  pub seen_like : (n : Need) (e : Tree) → touches (bad_names hidden frozen) n e ≡ false → Like (set_cells hidden) w v n (meaning w e) (meaning v e)
  seen_like n e h = same_like (set_cells hidden) w v same (bad_names hidden frozen) (none_frozen hidden frozen) others_seen others.spreads e n h

  -- and no hidden word `Math` is its form, where it is evaluated
  pub seen_words : (n : Need) (e : Tree) → touches (bad_names hidden frozen) n e ≡ false → NoMathIn hidden n (meaning w e)
  seen_words n e h = same_words (set_cells hidden) w v same (bad_names hidden frozen) (none_frozen hidden frozen) others_seen others.spreads e n h

  module _ (frozen_bound : (y : Text) → frozen y ≡ true → is_free (w.scope y) ≡ false) where
    -- what is written down again
    again_twice : (own : Text → Bool) (b : Bool) (e : Tree) → is_read_again frozen e ≡ true → touches (bad_names hidden frozen) (value_and_form b) e ≡ false → (d0 : Text → Cell) → AllSet hidden d0 → (s t : State) → Agree (kept_cells hidden frozen d0) s t →
        Twice hidden frozen v own d0 (meaning v e) (read_names e) (value w (meaning w e) s) (value v (meaning v e) t)
    again_twice own b (node Identifier l fs) h n d0 set s t a =
        let y : Text = first_text l.texts in
        let still : frozen y ≡ true = and_left (frozen y) (has_no_fields fs) h in
        bound_twice own y (or_left (hidden y) (touches_fields (bad_names hidden frozen) (needs (value_and_form b) Identifier l.texts l.flags) fs) n) still (frozen_bound y still) d0 set s t a
    again_twice own b (node ThisExpression l fs) h n d0 set s t a = this_twice own w.this v.this same.this d0 set s t a
    again_twice own b (node Super l fs) h n d0 set s t a = neither_read (kept_agree hidden frozen d0 set s t a)
    again_twice own b (node NullLiteral l fs) h n d0 set s t a = constant_twice own null null_form d0 set s t a
    again_twice own b (node BooleanLiteral l fs) h n d0 set s t a = constant_twice own (boolean (flag l.flags)) other d0 set s t a
    again_twice own b (node NumericLiteral l fs) h n d0 set s t a = constant_twice own (number (second l.texts)) (number_form (second l.texts)) d0 set s t a
    again_twice own b (node BigIntLiteral l fs) h n d0 set s t a = constant_twice own (bigint (second l.texts)) other d0 set s t a
    again_twice own b (node StringLiteral l fs) h n d0 set s t a = constant_twice own (text (first_text l.texts)) other d0 set s t a
    again_twice own b (node TemplateLiteral l fs) h n d0 set s t a = always_twice own (others.again l fs h) d0 set s t a
    again_twice own b (node _ l fs) h n d0 set s t a = absurd (cc h)

    -- an expression that is duplicated
    pub duplicated : (b : Bool) {in_use : Text → Bool} {xs : List Text} {e e1 e2 : Tree} → IsDuplicated frozen in_use xs e e1 e2 → ((y : Text) → one_of xs y ≡ true → hidden y ≡ true) → ((y : Text) → one_of xs y ≡ true → v.scope y ≡ changeable) →
        touches (bad_names hidden frozen) (value_and_form b) e ≡ false → (d0 : Text → Cell) → AllSet hidden d0 → (s t : State) → Agree (kept_cells hidden frozen d0) s t →
        Twice hidden frozen v (one_of xs) d0 (meaning v e2) (read_names e2) (value w (meaning w e) s) (value v (meaning v e1) t)
    duplicated b (read_again {e = e} h) cover vars n d0 set s t a = again_twice (one_of []) b e h n d0 set s t a
    duplicated b (by_temporary {e = e} {x = x} h fresh) cover vars n d0 set s t a =
        let mine : one_of (x ∷ []) x ≡ true = rw bytes_eq-self in
        rw (plain_again v) (stored_twice hidden frozen v x (cover x mine) (vars x mine) (one_of (x ∷ [])) (λ y k. or_first (bytes_eq y x) false k) d0 set ((kept_like d0 (value_and_form b) e n).evaluation s t a))

-- THE CELLS OF A FURTHER READING

pub earlier_free : (xs : List Text) (in_use : Text → Bool) (y : Text) → also_all xs in_use y ≡ false → in_use y ≡ false
earlier_free [] in_use y h = h
earlier_free (x ∷ xs) in_use y h = or_first (in_use y) (bytes_eq x y) (earlier_free xs (also x in_use) y h)

-- a name that is fresh after these is none of them
pub fresh_after : (xs : List Text) (in_use : Text → Bool) (z y : Text) → also_all xs in_use y ≡ false → one_of xs z ≡ true → bytes_eq z y ≡ false
fresh_after [] in_use z y h m = absurd (cc m)
fresh_after (x ∷ xs) in_use z y h m = at (λ k. fresh_after xs (also x in_use) z y h k) (bytes_eq z x) refl m
  where
    at : (one_of xs z ≡ true → bytes_eq z y ≡ false) → (b : Bool) → bytes_eq z x ≡ b → (b || one_of xs z) ≡ true → bytes_eq z y ≡ false
    at later true e k = let i : z ≡ x = bytes_eq-equal z x e in rw i (or_second (in_use y) (bytes_eq x y) (earlier_free xs (also x in_use) y h))
    at later false e k = later k

-- a name that a further reading depends on is a seen one that nothing writes, or the expression's temporary
pub data ReadFrom (hidden frozen : Text → Bool) (xs : List Text) (z : Text) : Type 0 where
  a_steady_name : hidden z ≡ false → frozen z ≡ true → ReadFrom hidden frozen xs z
  its_temporary : one_of xs z ≡ true → ReadFrom hidden frozen xs z

module _ (hidden frozen : Text → Bool) where
  again_from : (b : Bool) (e : Tree) (z : Text) → is_read_again frozen e ≡ true → touches (bad_names hidden frozen) (value_and_form b) e ≡ false → read_names e z ≡ true → ReadFrom hidden frozen [] z
  again_from b (node Identifier l fs) z h n r =
      let y : Text = first_text l.texts in
      let i : z ≡ y = bytes_eq-equal z y r in
      rw i (a_steady_name (or_left (hidden y) (touches_fields (bad_names hidden frozen) (needs (value_and_form b) Identifier l.texts l.flags) fs) n) (and_left (frozen y) (has_no_fields fs) h))
  again_from b (node _ l fs) z h n r = absurd (cc r)

  pub read_from : (b : Bool) {in_use : Text → Bool} {xs : List Text} {e e1 e2 : Tree} → IsDuplicated frozen in_use xs e e1 e2 → touches (bad_names hidden frozen) (value_and_form b) e ≡ false → (z : Text) → read_names e2 z ≡ true → ReadFrom hidden frozen xs z
  read_from b (read_again {e = e} h) n z r = again_from b e z h n r
  read_from b (by_temporary {x = x} h fresh) n z r = its_temporary (rw r refl)

  -- it is kept where hidden and frozen cells are
  pub read_kept : (xs : List Text) → ((y : Text) → one_of xs y ≡ true → hidden y ≡ true) → (z : Text) → ReadFrom hidden frozen xs z → (d : Text → Cell) (s t : State) → Agree (kept_cells hidden frozen d) s t → cells t z ≡ d z
  read_kept xs cover z (a_steady_name seen still) d s t (agree h g f) = f z still
  read_kept xs cover z (its_temporary m) d s t (agree h g f) = g z (cover z m)

  -- and isn't the temporary of another expression
  pub read_apart : (xs : List Text) (in_use : Text → Bool) {ys : List Text} {k k1 k2 : Tree} → IsDuplicated frozen (also_all xs in_use) ys k k1 k2 → ((y : Text) → one_of ys y ≡ true → hidden y ≡ true) → (z : Text) → ReadFrom hidden frozen xs z → one_of ys z ≡ false
  read_apart xs in_use (read_again h) cover z m = refl
  read_apart xs in_use (by_temporary {x = y} h fresh) cover z (a_steady_name seen still) = at (bytes_eq z y) refl
    where
      at : (b : Bool) → bytes_eq z y ≡ b → (b || false) ≡ false
      at true e = let mine : one_of (y ∷ []) z ≡ true = rw e refl in let seen' : hidden z ≡ true = cover z mine in cc (seen, seen')
      at false e = refl
  read_apart xs in_use (by_temporary {x = y} h fresh) cover z (its_temporary m) = or_both (bytes_eq z y) false (fresh_after xs in_use z y fresh.free m) refl
