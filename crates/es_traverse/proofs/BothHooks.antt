-- The hooks of two types, one after the other, keep the promises of both.
use Rattle.std.proofs.Common.{◌≡◌, ◌+◌, ◌<◌, ◌∙◌, ◌⊎◌, ℕ, Bool, true, false, refl, sym, subst, arith, inl, inr, true≢false, length, List}
use Rattle.std.specs.Prelude.{cond, ◌&&◌, not}
use Rattle.es_tree.specs.Tree.{Tree, Fields, done, ◌then◌, missing, one, many, statements, Trees, empty, ◌before◌}
use Rattle.es_tree.specs.declared.options.EnvOptions.{EnvOptions}
use Rattle.es_steps.specs.Steps.{Ledger, Site, Spot}
use Rattle.es_steps.specs.Open.{Pending, is_statement_body}
use Rattle.es_visit.specs.declared.hook.Hook.{Hook}
use Rattle.es_visit.specs.declared.hook.Hook.TheVariants.{Expression, Statement}
use Rattle.es_changes.specs.Changes.{Each, HasRoom, Kept, heft}
use Rattle.es_changes.specs.Fits.{Fits, FitAll, FitInList}
use Rattle.es_changes.specs.Laws.{SamePlace}
use Rattle.es_changes.specs.Conditions.{Conditions, holds_after, holds_before}
use Rattle.es_changes.specs.Moments.{Moment, with_pair}
use Rattle.es_changes.proofs.StillFits.{still-fits}
use Rattle.es_changes.proofs.StepRows.{steps-trans}
use Rattle.es_traverse.specs.Laws.{AreApart, Ending, EndsApart, Entered, EnteredAs, EnteredList, EnteredParameters, Exited, ExitedBody, ExitedList, ExitedParameters, ExitedProgram, IsLawful, IsReady, Known, Profile, Settled, body_field, both_endings, both_profile, is_construct, is_outermost, opens_body, opens_list, whole_rule}
use Rattle.es_traverse.specs.Listed.{any_among, any_listed}
use Rattle.es_traverse.specs.Loads.{wrapping_by, writing_by}
use Rattle.es_traverse.specs.Sites.{Tells}
use Rattle.es_traverse.specs.declared.site.Site.{Site as CodeSite}
use Rattle.es_traverse.proofs.Outward.{carried-along}
use Rattle.es_traverse.proofs.Kept.{kept-then}
use Rattle.es_traverse.proofs.StepInto.{field-into, rows-into, step-into, trees-into}
use Rattle.es_traverse.specs.Together.{left-false, neither, right-false}

-- two types together, under all options
abbrev pub both_of : (EnvOptions → Profile) → (EnvOptions → Profile) → EnvOptions → Profile
both_of P Q o = both_profile (P o) (Q o)

-- the same options later
later : (C : EnvOptions → Type 0) {o o' : EnvOptions} → o' ≡ o → C o' → C o
later C e h = subst C e h

-- the same conditions of each tree
each-same : (c d : Conditions) → ((n : Site) (t : Tree) → d.before n t ≡ c.before n t) → (n : Site) (ts : Trees) → Each (holds_before c) n ts → Each (holds_before d) n ts
each-same c d f n empty h = tt
each-same c d f n (t before ts) h = (f n t ∙ h.0, each-same c d f n ts h.1)

-- ON THE WAY IN

module _ (P Q : EnvOptions → Profile) (apart : (o : EnvOptions) → AreApart (P o) (Q o)) (law : (o : EnvOptions) → IsLawful (P o)) (a b c : Moment) where
  -- the second counts on what the first leaves (`meets`), and what it leaves is asked for in this form (`gives`)
  entered-both : (hook : Hook) (tells : Site → Type 0) (counts leaves counts' leaves' leaves'' : Site → Tree → Type 0) {t u v : Tree} → ((n : Site) (w : Tree) → leaves n w → counts' n w) → ((n : Site) (w : Tree) → leaves' n w → leaves'' n w) → SamePlace a b →
      Entered (P a.options) counts leaves hook tells a t b u → Entered (Q a.options) counts' leaves' hook tells b u c v → Entered (both_of P Q a.options) counts leaves'' hook tells a t c v
  entered-both hook tells counts leaves counts' leaves' leaves'' {t = t} {u = u} {v = v} meets gives same g h =
      let p = P a.options in let q = Q a.options in let x = apart a.options in
      let fits : (n : Site) → tells n → Fits a n t → counts n t → Fits b n u = λ n l f k. (still-fits p.rule (law a.options).rule).tree a b n t u same f (g.stepped n l f k) in
      let left : (n : Site) → tells n → Fits a n t → counts n t → counts' n u = λ n l f k. meets n u (g.left n l f k) in
      let kept : (v ≡ u) → (v ≡ t) ⊎ (both_of P Q a.options).makes v = λ i. elim g.order [ inl j ↦ inl (i ∙ j) | inr m ↦ inr (inl (subst p.makes (sym i) m)) ] in
      record {
        stepped = λ n l f k. steps-trans (rows-into (λ s s' x y. step-into (λ n s s' x y h. inl h)) (g.stepped n l f k)) (rows-into (λ s s' x y. step-into (λ n s s' x y h. inr h)) (h.stepped n l (fits n l f k) (left n l f k)));
        left = λ n l f k. gives n v (h.left n l (fits n l f k) (left n l f k));
        cleared = λ n l f k. neither (is_construct (p.constructs hook) v) (is_construct (q.constructs hook) v) (elim h.order [ inl i ↦ subst (λ w. is_construct (p.constructs hook) w ≡ false) (sym i) (g.cleared n l f k) | inr m ↦ x.makes hook v m ]) (h.cleared n l (fits n l f k) (left n l f k));
        sort = λ i s. elim (h.sort i s) [ inl earlier ↦ g.sort i earlier | inr this ↦ inr this ];
        body = h.body ∙ g.body;
        order = elim h.order [ inl i ↦ kept i | inr m ↦ inr (inr m) ];
      }

  settled-both : (hook : Hook) (tells : Site → Type 0) {t u v : Tree} → SamePlace a b → Settled (P a.options) hook tells a t b u → Settled (Q a.options) hook tells b u c v → Settled (both_of P Q a.options) hook tells a t c v
  settled-both hook tells {t = t} {u = u} {v = v} same g h =
      let p = P a.options in let q = Q a.options in let x = apart a.options in
      let fits : (n : Site) → tells n → Fits a n t → (holds_after p.conditions) n t → Fits b n u = λ n l f k. (still-fits p.rule (law a.options).rule).tree a b n t u same f (g.stepped n l f k) in
      let left : (n : Site) → tells n → Fits a n t → (holds_after p.conditions) n t → (holds_after q.conditions) n u = λ n l f k. x.after n u ∙ g.left n l f k in
      let kept : (v ≡ u) → (v ≡ t) ⊎ (both_of P Q a.options).writes v = λ i. elim g.order [ inl j ↦ inl (i ∙ j) | inr m ↦ inr (inl (subst p.writes (sym i) m)) ] in
      record {
        stepped = λ n l f k. steps-trans (rows-into (λ s s' x y. step-into (λ n s s' x y h. inl h)) (g.stepped n l f k)) (rows-into (λ s s' x y. step-into (λ n s s' x y h. inr h)) (h.stepped n l (fits n l f k) (left n l f k)));
        left = λ n l f k. sym (x.after n v) ∙ (h.left n l (fits n l f k) (left n l f k));
        cleared = λ n l f k. neither (is_construct (p.constructs hook) v) (is_construct (q.constructs hook) v) (elim h.order [ inl i ↦ subst (λ w. is_construct (p.constructs hook) w ≡ false) (sym i) (g.cleared n l f k) | inr m ↦ x.second_writes hook v m ]) (h.cleared n l (fits n l f k) (left n l f k));
        body = h.body ∙ g.body;
        order = elim h.order [ inl i ↦ kept i | inr m ↦ inr (inr m) ];
      }

  abbrev EnteredBoth : Hook → CodeSite → Tree → Tree → Tree → Type 0
  EnteredBoth hook s t u v = SamePlace a b → EnteredAs (P a.options) hook s a t b u → EnteredAs (Q a.options) hook s b u c v → EnteredAs (both_of P Q a.options) hook s a t c v

  entered-alike : (hook : Hook) (s : CodeSite) (t u v : Tree) → EnteredBoth hook s t u v
  entered-alike Expression s t u v =
      let p = P a.options in let q = Q a.options in let x = apart a.options in
      entered-both Expression (Tells s) (Known p.counts) (Known p.leaves) (Known q.counts) (Known q.leaves) (Known q.leaves) x.meets (λ n w h. h)
  entered-alike Statement s t u v =
      let p = P a.options in let q = Q a.options in let x = apart a.options in
      entered-both Statement (Tells s) (holds_after p.conditions) (holds_after p.conditions) (holds_after q.conditions) (holds_after q.conditions) (holds_after p.conditions) (λ n w h. x.after n w ∙ h) (λ n w h. sym (x.after n w) ∙ h)
  entered-alike hook s t u v = settled-both hook (Tells s)

  pub entered-as-both : (hook : Hook) (s : CodeSite) (t u v : Tree) → SamePlace a b → b.options ≡ a.options → EnteredAs (P a.options) hook s a t b u → EnteredAs (Q b.options) hook s b u c v → EnteredAs (both_of P Q a.options) hook s a t c v
  entered-as-both hook s t u v same options g h = entered-alike hook s t u v same g (later (λ o. EnteredAs (Q o) hook s b u c v) options h)

  pub entered-list-both : (keeps alone : Bool) → alone ≡ false → {ts us vs : Trees} → SamePlace (opens_list keeps a) b → b.options ≡ a.options → EnteredList (P a.options) keeps a ts b us → EnteredList (Q b.options) alone b us c vs → EnteredList (both_of P Q a.options) keeps a ts c vs
  entered-list-both keeps true e same options g h = absurd (true≢false e)
  entered-list-both keeps false e {ts = ts} {us = us} {vs = vs} same options g h' =
      let p = P a.options in let q = Q a.options in let x = apart a.options in
      let h = later (λ o. EnteredList (Q o) false b us c vs) options h' in
      let fits : (n : Site) → FitInList (opens_list keeps a) n ts → Each (holds_before p.conditions) n ts → (o : Pending) → FitInList b n us = λ n f k o. (still-fits p.rule (law a.options).rule).list (opens_list keeps a) b n o ts us same f (g.stepped n f k o) in
      let left : (n : Site) → FitInList (opens_list keeps a) n ts → Each (holds_before p.conditions) n ts → Each (holds_before q.conditions) n us = λ n f k. each-same p.conditions q.conditions x.before n us (g.leaves n f k) in
      record {
        stepped = λ n f k o. steps-trans (rows-into (λ s s' x y. field-into (λ n s s' x y h. inl h)) (g.stepped n f k o)) (rows-into (λ s s' x y. field-into (λ n s s' x y h. inr h)) (h.stepped n (fits n f k o) (left n f k) o));
        leaves = λ n f k. each-same q.conditions p.conditions (λ n t. sym (x.before n t)) n vs (h.leaves n (fits n f k (record { vars = List.[]; lets = List.[] })) (left n f k));
      }

  pub entered-parameters-both : {ts us vs : Trees} → SamePlace a b → b.options ≡ a.options → EnteredParameters (P a.options) a ts b us → EnteredParameters (Q b.options) b us c vs → EnteredParameters (both_of P Q a.options) a ts c vs
  entered-parameters-both {ts = ts} {us = us} {vs = vs} same options g h' =
      let p = P a.options in let q = Q a.options in let x = apart a.options in
      let h = later (λ o. EnteredParameters (Q o) b us c vs) options h' in
      let fits : (n : Site) → FitAll a n ts → Each (holds_before p.conditions) n ts → FitAll b n us = λ n f k. (still-fits p.rule (law a.options).rule).trees a b n ts us same f (g.stepped n f k) in
      let left : (n : Site) → FitAll a n ts → Each (holds_before p.conditions) n ts → Each (holds_before q.conditions) n us = λ n f k. each-same p.conditions q.conditions x.before n us (g.leaves n f k) in
      record {
        stepped = λ n f k. steps-trans (rows-into (λ s s' x y. trees-into (λ n s s' x y h. inl h)) (g.stepped n f k)) (rows-into (λ s s' x y. trees-into (λ n s s' x y h. inr h)) (h.stepped n (fits n f k) (left n f k)));
        leaves = λ n f k. each-same q.conditions p.conditions (λ n t. sym (x.before n t)) n vs (h.leaves n (fits n f k) (left n f k));
      }

-- ON THE WAY OUT: the second and then the first, of which that alone keeps pairs

module _ (P Q : EnvOptions → Profile) (apart : (o : EnvOptions) → AreApart (P o) (Q o)) (law : (o : EnvOptions) → IsLawful (Q o)) (a b c : Moment) where
  pub exited-both : (hook : Hook) {t u v : Tree} → SamePlace a b → b.options ≡ a.options → Exited (Q a.options) hook a t b u → Exited (P b.options) hook b u c v → Exited (both_of P Q a.options) hook a t c v
  exited-both hook {t = t} {u = u} {v = v} same options g h' =
      let p = P a.options in let q = Q a.options in let x = apart a.options in
      let h = later (λ o. Exited (P o) hook b u c v) options h' in
      record {
        stepped = λ n f k.
            let counts : p.counts_after n u ≡ true = sym (x.counts_after n u) ∙ carried-along q (law a.options) n t u (g.stepped n f k) k in
            steps-trans (rows-into (λ s s' x y. step-into (λ n s s' x y h. inr h)) (g.stepped n f k)) (rows-into (λ s s' x y. step-into (λ n s s' x y h. inl h)) (h.stepped n ((still-fits q.rule (law a.options).rule).tree a b n t u same f (g.stepped n f k)) counts));
        cleared = λ e free. h.none q.late_constructs x.none_later (g.cleared e free);
        body = h.body ∙ g.body;
        none = λ test f k. h.none test (λ w m. f w (inl m)) (g.none test (λ w m. f w (inr m)) k);
        hooks = omega (arith, g.hooks, h.hooks);
      }

module _ (P Q : EnvOptions → Profile) (law : (o : EnvOptions) → IsLawful (Q o)) (a b c : Moment) where
  pub exited-parameters-both : {ts us vs : Trees} → SamePlace a b → b.options ≡ a.options → ExitedParameters (Q a.options) a ts b us → ExitedParameters (P b.options) b us c vs → ExitedParameters (both_of P Q a.options) a ts c vs
  exited-parameters-both {ts = ts} {us = us} {vs = vs} same options g h' =
      let q = Q a.options in
      let h = later (λ o. ExitedParameters (P o) b us c vs) options h' in
      record {
        stepped = λ n f k. steps-trans (rows-into (λ s s' x y. trees-into (λ n s s' x y h. inr h)) (g.stepped n f k)) (rows-into (λ s s' x y. trees-into (λ n s s' x y h. inl h)) (h.stepped n ((still-fits q.rule (law a.options).rule).trees a b n ts us same f (g.stepped n f k)) (each-of n us)));
        none = λ test f k. h.none test (λ w m. f w (inl m)) (g.none test (λ w m. f w (inr m)) k);
        hooks = omega (arith, g.hooks, h.hooks);
      }
    where
      each-of : (n : Site) (us : Trees) → Each (λ n t. Unit {0}) n us
      each-of n empty = tt
      each-of n (t before ts) = (tt, each-of n ts)

  pub exited-list-both : (keeps alone : Bool) → alone ≡ false → {ts us vs : Trees} → SamePlace a (opens_list alone b) → (opens_list alone b).options ≡ a.options → ExitedList (Q a.options) alone a ts b us → ExitedList (P b.options) keeps b us c vs → ExitedList (both_of P Q a.options) keeps a ts c vs
  exited-list-both keeps true e same options g h = absurd (true≢false e)
  exited-list-both keeps false e {ts = ts} {us = us} {vs = vs} same options g h' =
      let q = Q a.options in
      let h = later (λ o. ExitedList (P o) keeps b us c vs) options h' in
      record {
        stepped = λ n f k o. steps-trans (rows-into (λ s s' x y. field-into (λ n s s' x y h. inr h)) (g.stepped n f k o)) (rows-into (λ s s' x y. field-into (λ n s s' x y h. inl h)) (h.stepped n ((still-fits q.rule (law a.options).rule).list a b n o ts us same f (g.stepped n f k o)) (each-of n us) o));
        none = λ test f k. h.none test (λ w m. f w (inl m)) (g.none test (λ w m. f w (inr m)) k);
        hooks = omega (arith, g.hooks, h.hooks);
      }
    where
      each-of : (n : Site) (us : Trees) → Each (λ n t. Unit {0}) n us
      each-of n empty = tt
      each-of n (t before ts) = (tt, each-of n ts)

  -- bodies of arrows
  pub exited-body-both : (keeps alone : Bool) → alone ≡ false → {t u v : Tree} → ExitedBody (Q a.options) alone a t b u → ExitedBody (P b.options) keeps b u c v → ExitedBody (both_of P Q a.options) keeps a t c v
  exited-body-both keeps true e g h = absurd (true≢false e)
  exited-body-both keeps false e {t = t} {u = u} {v = v} g h' =
      let h : ExitedBody (P a.options) keeps a t c v = subst (λ m. ExitedBody (P m.options) keeps m t c v) (g.same refl).1 (subst (λ w. ExitedBody (P b.options) keeps b w c v) (g.same refl).0 h') in
      record {
        closed = λ k. ((λ n f o. rows-into (λ s s' x y. field-into (λ n s s' x y h. inl h)) ((h.closed k).0 n f o)), (h.closed k).1);
        same = h.same;
        none = λ test f k. h.none test (λ w m. f w (inl m)) k;
        hooks = h.hooks;
      }

-- THE PROGRAM

-- the rules of both, one after the other
module _ (p q : Profile) (e f : Ending) where
  first-whole : (n : Site) (s s' : Ledger) (x y : Spot) → whole_rule p e n s x s' y → whole_rule (both_profile p q) (both_endings e f) n s x s' y
  first-whole n s s' x y (inl h) = inl (inl h)
  first-whole n s s' x y (inr h) = inr (inl h)

  second-whole : (n : Site) (s s' : Ledger) (x y : Spot) → whole_rule q f n s x s' y → whole_rule (both_profile p q) (both_endings e f) n s x s' y
  second-whole n s s' x y (inl h) = inl (inr h)
  second-whole n s s' x y (inr h) = inr (inr h)

-- a list has none of two kinds of constructs where it has none of either
none-of-either : (e f : Ending) (ts : Trees) → any_among e.constructs ts ≡ false → any_among f.constructs ts ≡ false → any_among (both_endings e f).constructs ts ≡ false
none-of-either e f empty h k = refl
none-of-either e f (t before ts) h k =
    neither (is_construct (both_endings e f).constructs t) (any_among (both_endings e f).constructs ts)
    (neither (is_construct e.constructs t) (is_construct f.constructs t) (left-false _ (any_among e.constructs ts) h) (left-false _ (any_among f.constructs ts) k))
    (none-of-either e f ts (right-false (is_construct e.constructs t) _ h) (right-false (is_construct f.constructs t) _ k))

none-listed-of-either : (e f : Ending) (fs : Fields) → any_listed e.constructs fs ≡ false → any_listed f.constructs fs ≡ false → any_listed (both_endings e f).constructs fs ≡ false
none-listed-of-either e f done h k = refl
none-listed-of-either e f (missing then fs) h k = none-listed-of-either e f fs h k
none-listed-of-either e f (one t then fs) h k = none-listed-of-either e f fs h k
none-listed-of-either e f (many ts then fs) h k = none-listed-of-either e f fs h k
none-listed-of-either e f (statements ts then fs) h k =
    neither (any_among (both_endings e f).constructs ts) (any_listed (both_endings e f).constructs fs)
    (none-of-either e f ts (left-false _ (any_listed e.constructs fs) h) (left-false _ (any_listed f.constructs fs) k))
    (none-listed-of-either e f fs (right-false (any_among e.constructs ts) _ h) (right-false (any_among f.constructs ts) _ k))

-- the second type acts, and then the first, which alone may keep pairs
pub exited-program-both : (P Q : EnvOptions → Profile) (E F : EnvOptions → Ending) → ((o : EnvOptions) → EndsApart (P o) (F o)) → (a b c : Moment) (keeps alone : Bool) {t u v : Tree} → b.options ≡ a.options →
    ExitedProgram (Q a.options) (F a.options) alone a t b u → ExitedProgram (P b.options) (E b.options) keeps b u c v → ExitedProgram (both_of P Q a.options) (both_endings (E a.options) (F a.options)) keeps a t c v
exited-program-both P Q E F apart a b c keeps alone {t = t} {u = u} {v = v} options g h' =
    let e = E a.options in let f = F a.options in
    let h = later (λ o. ExitedProgram (P o) (E o) keeps b u c v) options h' in
    record {
      stepped = λ k. steps-trans (rows-into (λ s s' x y. step-into (second-whole (P a.options) (Q a.options) e f)) (g.stepped k)) (rows-into (λ s s' x y. step-into (first-whole (P a.options) (Q a.options) e f)) (h.stepped (g.stays k)));
      stays = λ k. h.stays (g.stays k);
      cleared = λ k. none-listed-of-either e f (body_field v) (h.cleared (g.stays k)) (h.none_listed f.constructs (apart a.options) (g.cleared k));
      finished = h.finished;
      directives = h.directives ∙ g.directives;
      none = λ test m k. h.none test (λ w i. m w (inl i)) (g.none test (λ w i. m w (inr i)) k);
      none_listed = λ test m k. h.none_listed test (λ w i. m w (inl i)) (g.none_listed test (λ w i. m w (inr i)) k);
    }

-- THE BODY OF AN ARROW

-- a type that keeps no pairs leaves a body as it was
pub unkept : (alone : Bool) → alone ≡ false → {p : Profile} {a b : Moment} {t u : Tree} → ExitedBody p alone a t b u → u ≡ t
unkept true e h = absurd (true≢false e)
unkept false e h = (h.same refl).0

-- both leave a body as it was, or the first writes what is pending for it
pub kept-body : (keeps alone : Bool) → alone ≡ false → (a b c : Moment) (w w' : ℕ) {s s' w'' s'' : ℕ} (t u : Tree) → is_statement_body u ≡ is_statement_body t → Kept a (w + writing_by alone) s (opens_body alone t b) w' s' → Kept b (w' + writing_by keeps) s' (opens_body keeps u c) w'' s'' →
    Kept a (w + writing_by keeps) s (opens_body keeps t c) w'' s''
kept-body keeps true e a b c w w' t u same g h = absurd (true≢false e)
kept-body keeps false e a b c w w' {s = s} {s' = s'} {w'' = w''} {s'' = s''} t u same g h =
    let more = writing_by keeps in
    let first : Kept a (w + more) s b (w' + more) s' = record { level = g.level; around = g.around; options = g.options; counted = g.counted; lighter = omega (arith, g.lighter); nodes = g.nodes } in
    subst (λ v. Kept a (w + more) s (cond (keeps && not v) (with_pair c) c) w'' s'') same (kept-then first h)

-- the second takes nothing for itself
pub kept-load-both : (keeps alone : Bool) (hook : Hook) (s : CodeSite) → alone ≡ false → (w w' : ℕ) {a b c : Moment} {z z' w'' z'' : ℕ} → Kept a (w + wrapping_by keeps hook s) z b w' z' → Kept b (w' + wrapping_by alone hook s) z' c w'' z'' → Kept a (w + wrapping_by keeps hook s) z c w'' z''
kept-load-both keeps true hook s e w w' g h = absurd (true≢false e)
kept-load-both keeps false hook s e w w' {b = b} {c = c} {z' = z'} {w'' = w''} {z'' = z''} g h =
    let second : Kept b w' z' c w'' z'' = record { level = h.level; around = h.around; options = h.options; counted = h.counted; lighter = omega (arith, h.lighter); nodes = h.nodes } in
    kept-then g second

pub wrapping-none : (alone : Bool) (hook : Hook) (s : CodeSite) → alone ≡ false → wrapping_by alone hook s ≡ 0
wrapping-none true hook s e = absurd (true≢false e)
wrapping-none false hook s e = refl

pub writing-none : (alone : Bool) → alone ≡ false → writing_by alone ≡ 0
writing-none true e = absurd (true≢false e)
writing-none false e = refl

-- READY FOR THE NEXT

pub ready-body : {Y : Type 0} (r : Y → EnvOptions → Type 0) (y : Y) (alone : Bool) → alone ≡ false → (more w : ℕ) (t : Tree) {a b : Moment} {s w' s' : ℕ} → Kept a (w + writing_by alone) s (opens_body alone t b) w' s' → r y a.options → HasRoom a (w + more) → 0 < length a.lists → IsReady r y b (w' + more)
ready-body r y true e more w t g k room pair = absurd (true≢false e)
ready-body r y false e more w t g k room pair = record { suited = subst (λ o. r y o) (sym g.options) k; room = omega (arith, g.lighter, room); pair = omega (arith, g.level.deep, pair) }

pub ready-later : {Y : Type 0} (r : Y → EnvOptions → Type 0) (y : Y) {a b : Moment} {w s w' s' : ℕ} → Kept a w s b w' s' → r y a.options → HasRoom a w → 0 < length a.lists → IsReady r y b w'
ready-later r y g k room pair = record { suited = subst (λ o. r y o) (sym g.options) k; room = omega (arith, g.lighter, room); pair = omega (arith, g.level.deep, pair) }

-- what opens a pair for a list makes nothing heavier
opens-light : (keeps : Bool) (a : Moment) → heft (opens_list keeps a) ≡ heft a
opens-light keeps a = at (keeps && not (is_outermost a.around))
  where
    at : (b : Bool) → heft (cond b (with_pair a) a) ≡ heft a
    at true = omega arith
    at false = refl

opens-pair : (keeps : Bool) (a : Moment) → 0 < length a.lists → 0 < length (opens_list keeps a).lists
opens-pair keeps a = at (keeps && not (is_outermost a.around))
  where
    at : (b : Bool) → 0 < length a.lists → 0 < length (cond b (with_pair a) a).lists
    at true h = omega arith
    at false h = h

pub opens-options : (keeps : Bool) (a : Moment) → (opens_list keeps a).options ≡ a.options
opens-options keeps a = at (keeps && not (is_outermost a.around))
  where
    at : (b : Bool) → (cond b (with_pair a) a).options ≡ a.options
    at true = refl
    at false = refl

pub ready-in-list : {Y : Type 0} (r : Y → EnvOptions → Type 0) (y : Y) (keeps : Bool) (a : Moment) {b : Moment} {w s w' s' : ℕ} → Kept (opens_list keeps a) w s b w' s' → r y a.options → HasRoom a w → 0 < length a.lists → IsReady r y b w'
ready-in-list r y keeps a g k room pair = record {
  suited = subst (λ o. r y o) (sym (g.options ∙ opens-options keeps a)) k;
  room = omega (arith, g.lighter, room, opens-light keeps a);
  pair = omega (arith, g.level.deep, opens-pair keeps a pair);
}
