-- A list of bound names with others inserted, and what names find where a parameter moves into the body.
use Rattle.std.proofs.Common.{◌≡◌, ℕ, ◌+◌, refl, sym, ap, subst, ◌∙◌, List, [], ◌∷◌, ◌++◌}
use Rattle.std.specs.Prelude.{Bool, true, false, not, ◌&&◌, ◌||◌, Option, Some, None, is_some, bytes_eq, if◌then◌else◌}
use Rattle.std.specs.List.{list_any, list_all}
use Rattle.std.proofs.lemmas.List.Folds.{list_any-append}
use Rattle.es_tree.specs.Words.{Text}
use Rattle.es_resolution.specs.Declarations.{Bound, sought}
use Rattle.es_resolution.specs.Resolved.{or_around, bound_by}
use Rattle.es_resolution.specs.Single.{is_it, binds, is_var_of, one_if}
use Rattle.es_steps.specs.Patterns.{no_name_of}
use Rattle.es_resolution.proofs.Basics.{either_of, sought-append, bytes_eq-equal}
use Rattle.es_steps.proofs.Nodes.{or_first, or_second}

-- where a name is sought in vain in both, it is so in each
pub neither-first : (a b : Option (Option ℕ)) → either_of a b ≡ None → a ≡ None
neither-first None b e = refl
neither-first (Some s) b e = absurd (cc e)

pub neither-second : (a b : Option (Option ℕ)) → either_of a b ≡ None → b ≡ None
neither-second None b e = e
neither-second (Some s) b e = absurd (cc e)

-- the list cs is bs with the names ms
pub record Inserted (ms bs cs : List Bound) : Type 0 where
  pub none : (y : Text) → sought ms y ≡ None → sought cs y ≡ sought bs y
  pub some : (y : Text) (o : Option ℕ) → sought ms y ≡ Some o → sought bs y ≡ None → sought cs y ≡ Some o
  pub any : (q : Bound → Bool) → list_any q cs ≡ (list_any q ms || list_any q bs)

or-nothing : (b : Bool) → b ≡ (b || false)
or-nothing true = refl
or-nothing false = refl

or-swap : (a b c : Bool) → (a || (b || c)) ≡ (b || (a || c))
or-swap true true c = refl
or-swap true false c = refl
or-swap false b c = refl

or-again : (a b c : Bool) → ((a || b) || c) ≡ (a || (b || c))
or-again true b c = refl
or-again false b c = refl

pub inserted-alone : (ms : List Bound) → Inserted ms [] ms
inserted-alone ms = record { none = λ y e. e; some = λ y o e d. e; any = λ q. or-nothing (list_any q ms) }

pub inserted-before : (ms bs : List Bound) → Inserted ms bs (ms ++ bs)
inserted-before ms bs = record {
  none = λ y e. sought-append ms bs y ∙ ap (λ z. either_of z (sought bs y)) e;
  some = λ y o e d. sought-append ms bs y ∙ ap (λ z. either_of z (sought bs y)) e;
  any = λ q. list_any-append q ms bs;
}

pub inserted-right : (es ms bs cs : List Bound) → Inserted ms bs cs → Inserted ms (es ++ bs) (es ++ cs)
inserted-right es ms bs cs h = record {
  none = λ y e. sought-append es cs y ∙ ap (λ z. either_of (sought es y) z) (h.none y e) ∙ sym (sought-append es bs y);
  some = λ y o e d. sought-append es cs y ∙ first-none y (sought es y) refl o e (sym (sought-append es bs y) ∙ d);
  any = λ q. list_any-append q es cs ∙ ap (λ z. list_any q es || z) (h.any q) ∙ or-swap (list_any q es) (list_any q ms) (list_any q bs) ∙ ap (λ z. list_any q ms || z) (sym (list_any-append q es bs));
}
  where
    first-none : (y : Text) (a : Option (Option ℕ)) → sought es y ≡ a → (o : Option ℕ) → sought ms y ≡ Some o → either_of a (sought bs y) ≡ None → either_of a (sought cs y) ≡ Some o
    first-none y None g o e d = h.some y o e d
    first-none y (Some s) g o e d = absurd (cc d)

pub inserted-left : (es ms bs cs : List Bound) → Inserted ms bs cs → Inserted ms (bs ++ es) (cs ++ es)
inserted-left es ms bs cs h = record {
  none = λ y e. sought-append cs es y ∙ ap (λ z. either_of z (sought es y)) (h.none y e) ∙ sym (sought-append bs es y);
  some = λ y o e d. sought-append cs es y ∙ ap (λ z. either_of z (sought es y)) (h.some y o e (neither-first (sought bs y) (sought es y) (sym (sought-append bs es y) ∙ d)));
  any = λ q. list_any-append q cs es ∙ ap (λ z. z || list_any q es) (h.any q) ∙ or-again (list_any q ms) (list_any q bs) (list_any q es) ∙ ap (λ z. list_any q ms || z) (sym (list_any-append q bs es));
}

-- NAMES THAT ARE APART

apart-step : (ms : List Bound) (b : Bound) (c : Bool) (y : Text) (rest : Option (Option ℕ)) → bytes_eq b.name y ≡ c → (not (bound_by ms b.name) && true) ≡ true → bound_by ms y ≡ true → rest ≡ None → (if c then Some b.symbol else rest) ≡ None
apart-step ms b true y rest e d f g = let h : bound_by ms b.name ≡ true = subst (λ z. bound_by ms z ≡ true) (sym (bytes_eq-equal b.name y e)) f in absurd (flip (bound_by ms b.name) h d)
  where
    flip : (v : Bool) → v ≡ true → (not v && true) ≡ true → ⊥
    flip true a b = absurd (cc b)
    flip false a b = absurd (cc a)
apart-step ms b false y rest e d f g = g

both-first : (a b : Bool) → (a && b) ≡ true → (a && true) ≡ true
both-first true b e = refl
both-first false b e = absurd (cc e)

both-second : (a b : Bool) → (a && b) ≡ true → b ≡ true
both-second true b e = e
both-second false b e = absurd (cc e)

pub apart-names : (ms bs : List Bound) → list_all (no_name_of ms) bs ≡ true → (y : Text) → bound_by ms y ≡ true → sought bs y ≡ None
apart-names ms [] e y f = refl
apart-names ms (b ∷ bs) e y f = apart-step ms b (bytes_eq b.name y) y (sought bs y) refl (both-first (not (bound_by ms b.name)) (list_all (no_name_of ms) bs) e) f (apart-names ms bs (both-second (not (bound_by ms b.name)) (list_all (no_name_of ms) bs) e) y f)

not-false : (v : Bool) → (not v && true) ≡ true → v ≡ false
not-false true e = absurd (cc e)
not-false false e = refl

first-lacks : (c : Bool) (o : Option ℕ) (rest : Option (Option ℕ)) → (if c then Some o else rest) ≡ None → (if c then Some o else None) ≡ None
first-lacks true o rest e = e
first-lacks false o rest e = refl

rest-lacks : (c : Bool) (o : Option ℕ) (rest : Option (Option ℕ)) → (if c then Some o else rest) ≡ None → rest ≡ None
rest-lacks true o rest e = absurd (cc e)
rest-lacks false o rest e = e

-- `var` that are no parameters are so before and after, where none has a name that is moved, nor the new one
pub vars-stay : (x : Text) (s : ℕ) (ms fs gs bs : List Bound) → list_all (no_name_of ms) bs ≡ true → ((b : Bound) → bound_by ms b.name ≡ false → sought (b ∷ []) x ≡ None → bound_by gs b.name ≡ bound_by fs b.name) → sought bs x ≡ None → list_any (is_var_of s (bound_by gs)) bs ≡ list_any (is_var_of s (bound_by fs)) bs
vars-stay x s ms fs gs [] e h n = refl
vars-stay x s ms fs gs (b ∷ bs) e h n = λ i. (is_it s b && not (h b (not-false (bound_by ms b.name) (both-first (not (bound_by ms b.name)) (list_all (no_name_of ms) bs) e)) (first-lacks (bytes_eq b.name x) b.symbol (sought bs x) n) i)) || vars-stay x s ms fs gs bs (both-second (not (bound_by ms b.name)) (list_all (no_name_of ms) bs) e) h (rest-lacks (bytes_eq b.name x) b.symbol (sought bs x) n) i

-- WHAT NAMES FIND: of the parameters fs those of ms move, and x comes for them; of the body's names bs become cs

module _ (x : Text) (ms rs fs gs bs cs vs : List Bound) (it : Bound) (moving : Inserted ms rs fs) (coming : Inserted (it ∷ []) rs gs) (written : Inserted ms bs cs) (apart : list_all (no_name_of ms) rs ≡ true) (apart-body : list_all (no_name_of ms) bs ≡ true) (p q : Text → Option ℕ) where
  abbrev pub outer_before : Text → Option ℕ
  outer_before y = or_around (sought fs y) (p y)

  abbrev pub outer_after : Text → Option ℕ
  outer_after y = or_around (sought gs y) (q y)

  abbrev pub inner_before : Text → Option ℕ
  inner_before y = or_around (sought bs y) (if bound_by fs y then outer_before y else or_around (sought vs y) (outer_before y))

  abbrev pub inner_after : Text → Option ℕ
  inner_after y = or_around (sought cs y) (if bound_by gs y then outer_after y else or_around (sought vs y) (outer_after y))

  -- the name y is an old one, and finds the same further out
  module _ (y : Text) (old : sought (it ∷ []) y ≡ None) (e : q y ≡ p y) where
    same-parameters : sought ms y ≡ None → sought gs y ≡ sought fs y
    same-parameters d = coming.none y old ∙ sym (moving.none y d)

    pub outer-same : sought ms y ≡ None → outer_after y ≡ outer_before y
    outer-same d = λ i. or_around (same-parameters d i) (e i)

    some-bound : (o : Option ℕ) → sought ms y ≡ Some o → bound_by ms y ≡ true
    some-bound o d = ap (λ z. is_some z) d

    moved-before : (o : Option ℕ) → sought ms y ≡ Some o → sought fs y ≡ Some o
    moved-before o d = moving.some y o d (apart-names ms rs apart y (some-bound o d))

    moved-after : (o : Option ℕ) → sought ms y ≡ Some o → sought cs y ≡ Some o
    moved-after o d = written.some y o d (apart-names ms bs apart-body y (some-bound o d))

    -- in the body
    pub inner-same : inner_after y ≡ inner_before y
    inner-same = at (sought ms y) refl
      where
        at : (a : Option (Option ℕ)) → sought ms y ≡ a → inner_after y ≡ inner_before y
        at None d = λ i. or_around (written.none y d i) (if is_some (same-parameters d i) then outer-same d i else or_around (sought vs y) (outer-same d i))
        at (Some o) d =
            (λ i. or_around (moved-after o d i) (if bound_by gs y then outer_after y else or_around (sought vs y) (outer_after y))) ∙
            sym (λ i. or_around (apart-names ms bs apart-body y (some-bound o d) i) (if is_some (moved-before o d i) then or_around (moved-before o d i) (p y) else or_around (sought vs y) (or_around (moved-before o d i) (p y))))

    -- and of what moves into it, where the body declares no such name
    pub moved-same : sought bs y ≡ None → sought vs y ≡ None → inner_after y ≡ outer_before y
    moved-same none novar = at (sought ms y) refl
      where
        if-same : (b : Bool) (o : Option ℕ) → (if b then o else o) ≡ o
        if-same true o = refl
        if-same false o = refl

        at : (a : Option (Option ℕ)) → sought ms y ≡ a → inner_after y ≡ outer_before y
        at None d = (λ i. or_around ((written.none y d ∙ none) i) (if bound_by gs y then outer-same d i else or_around (novar i) (outer-same d i))) ∙ if-same (bound_by gs y) (outer_before y)
        at (Some o) d = (λ i. or_around (moved-after o d i) (if bound_by gs y then outer_after y else or_around (sought vs y) (outer_after y))) ∙ sym (λ i. or_around (moved-before o d i) (p y))

    -- a `var` of the body
    pub hoist-same : (if bound_by gs y then outer_after y else inner_after y) ≡ (if bound_by fs y then outer_before y else inner_before y)
    hoist-same = at (sought ms y) refl
      where
        at : (a : Option (Option ℕ)) → sought ms y ≡ a → (if bound_by gs y then outer_after y else inner_after y) ≡ (if bound_by fs y then outer_before y else inner_before y)
        at None d = λ i. if is_some (same-parameters d i) then outer-same d i else inner-same i
        at (Some o) d =
            (λ i. if is_some ((coming.none y old ∙ apart-names ms rs apart y (some-bound o d)) i) then outer_after y else or_around (moved-after o d i) (if bound_by gs y then outer_after y else or_around (sought vs y) (outer_after y))) ∙
            sym (λ i. if is_some (moved-before o d i) then or_around (moved-before o d i) (p y) else inner_before y)

  -- the new name
  pub new-outer : (o : Option ℕ) → sought (it ∷ []) x ≡ Some o → sought rs x ≡ None → outer_after x ≡ o
  new-outer o d none = λ i. or_around (coming.some x o d none i) (q x)

  pub new-inner : (o : Option ℕ) → sought (it ∷ []) x ≡ Some o → sought rs x ≡ None → sought ms x ≡ None → sought bs x ≡ None → inner_after x ≡ o
  new-inner o d none none-moved none-body = (λ i. or_around ((written.none x none-moved ∙ none-body) i) (if is_some (coming.some x o d none i) then or_around (coming.some x o d none i) (q x) else or_around (sought vs x) (or_around (coming.some x o d none i) (q x))))

  -- HOW MANY SCOPES bind a symbol

  pub count : (s : ℕ) → is_it s it ≡ false → (binds s ms ≡ true → binds s rs ≡ false) → (binds s ms ≡ true → binds s bs ≡ false) → (binds s ms ≡ true → binds s vs ≡ false) → (binds s ms ≡ false → list_any (is_var_of s (bound_by gs)) vs ≡ list_any (is_var_of s (bound_by fs)) vs) → one_if (binds s gs) + one_if (binds s cs || list_any (is_var_of s (bound_by gs)) vs) ≡ one_if (binds s fs) + one_if (binds s bs || list_any (is_var_of s (bound_by fs)) vs)
  count s old apart-s body-s vars-s vars-same =
      (λ i. one_if ((coming.any (is_it s) ∙ (λ j. (old j || false) || binds s rs)) i) + one_if (written.any (is_it s) i || list_any (is_var_of s (bound_by gs)) vs)) ∙
      at (binds s ms) refl ∙
      sym (λ i. one_if (moving.any (is_it s) i) + one_if (binds s bs || list_any (is_var_of s (bound_by fs)) vs))
    where
      at : (b : Bool) → binds s ms ≡ b → one_if (binds s rs) + one_if ((b || binds s bs) || list_any (is_var_of s (bound_by gs)) vs) ≡ one_if (b || binds s rs) + one_if (binds s bs || list_any (is_var_of s (bound_by fs)) vs)
      at true d = (λ i. one_if (apart-s d i) + 1) ∙ sym (λ i. 1 + one_if (body-s d i || no-vars vs (vars-s d) i))
        where
          no-vars : (zs : List Bound) → binds s zs ≡ false → list_any (is_var_of s (bound_by fs)) zs ≡ false
          no-vars [] e = refl
          no-vars (z ∷ zs) e = λ i. (or_first (is_it s z) (binds s zs) e i && not (bound_by fs z.name)) || no-vars zs (or_second (is_it s z) (binds s zs) e) i
      at false d = λ i. one_if (binds s rs) + one_if (binds s bs || vars-same d i)
