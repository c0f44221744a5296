-- Hooks that change no tree: pairs are opened and closed with nothing pending in them.
use Rattle.std.proofs.Common.{◌≡◌, ◌∙◌, ◌+◌, ◌-◌, ◌<◌, ◌∷◌, [], ℕ, zero, suc, List, true, false, not, ◌&&◌, refl, sym, subst, ap, arith, inl, None, Some, length, replicate}
use Rattle.std.proofs.lemmas.List.{length-replicate}
use Rattle.std.specs.Prelude.{cond, if◌then◌else◌, slice_get}
use Rattle.es_tree.specs.Tree.{Tree, Trees}
use Rattle.es_scope.specs.declared.ancestor.Ancestor.{Ancestor}
use Rattle.es_resolution.specs.Seen.{seen}
use Rattle.es_steps.specs.Open.{Pending, body, child, is_statement_body, nothing_pending, opened}
use Rattle.es_steps.specs.Steps.{FieldStep, Steps}
use Rattle.es_steps.specs.Steps.Steps.{stays}
use Rattle.es_visit.specs.declared.hook.Hook.{Hook}
use Rattle.es_visit.specs.declared.hook.Hook.TheVariants.{Expression, Statement}
use Rattle.es_changes.specs.Moments.{Moment, below, ledger_with, top, with_lists, with_pair}
use Rattle.es_traverse.specs.Laws.{BodyStepped, EnteredAs, EnteredList, EnteredParameters, Exited, ExitedBody, ExitedList, ExitedParameters, ExitedProgram, Seen, body_field, is_outermost, no_ending, opens_body, opens_list}
use Rattle.es_traverse.specs.declared.site.Site.{Site as CodeSite}
use Rattle.es_traverse.specs.declared.site.Site.TheVariants.{ArrowBody}
use Rattle.es_traverse.proofs.Kept.{opens-seen}
use Rattle.es_traverse.proofs.NoHooks.{none-listed, exited-elsewhere}
use Rattle.traverse_tests.specs.Quiet.{never, quiet}

-- COUNTS OF PAIRS

pub one_more : (n m : ℕ) → m ≡ n + 1 → nothing_pending ∷ replicate n nothing_pending ≡ replicate m nothing_pending
one_more n m e = let same : suc n ≡ m = omega (arith, e) in ap (λ k. replicate k nothing_pending) same

pub one_less : (n : ℕ) → 0 < length (replicate n nothing_pending) → nothing_pending ∷ replicate (n - 1) nothing_pending ≡ replicate n nothing_pending
one_less n h = let some : 0 < n = subst (λ k. 0 < k) (length-replicate n nothing_pending) h in one_more (n - 1) n (omega (arith, some))

pub nothing_on_top : (n : ℕ) → top (replicate n nothing_pending) ≡ nothing_pending
nothing_on_top zero = refl
nothing_on_top (suc n) = refl

-- NODES, PARAMETERS AND THE PROGRAM

pub entered_as : (hook : Hook) (c : CodeSite) (a : Moment) (t : Tree) → EnteredAs quiet hook c a t a t
entered_as Expression c a t = record { stepped = λ n l f k. stays; left = λ n l f k. k; cleared = λ n l f k. refl; sort = λ h e. inl e; body = refl; order = inl refl }
entered_as Statement c a t = record { stepped = λ n l f k. stays; left = λ n l f k. k; cleared = λ n l f k. refl; sort = λ h e. inl e; body = refl; order = inl refl }
entered_as _ c a t = record { stepped = λ n l f k. stays; left = λ n l f k. k; cleared = λ n l f k. refl; body = refl; order = inl refl }

pub exited_none : (h : Hook) (a : Moment) (t : Tree) → Exited quiet h a t a t
exited_none h a t = exited-elsewhere quiet a (λ k l fs. refl) h t

pub entered_parameters : (a : Moment) (ts : Trees) → EnteredParameters quiet a ts a ts
entered_parameters a ts = record { stepped = λ n f k. stays; leaves = λ n f k. k }

pub exited_parameters : (a : Moment) (ts : Trees) → ExitedParameters quiet a ts a ts
exited_parameters a ts = record { stepped = λ n f k. stays; none = λ test w h. h; hooks = omega arith }

pub exited_program : (a : Moment) (t : Tree) → top a.lists ≡ nothing_pending → ExitedProgram quiet no_ending true a t a t
exited_program a t h = record { stepped = λ k. stays; stays = λ k. k; cleared = λ k. none-listed (body_field t); finished = λ k. h; directives = refl; none = λ test w k. k; none_listed = λ test w k. k }

-- LISTS

pub outermost : (xs : List Ancestor) → slice_get xs 1 ≡ None → is_outermost xs ≡ true
outermost [] h = refl
outermost (a ∷ []) h = refl
outermost (a ∷ b ∷ xs) h = absurd (cc h)

pub inner : (xs : List Ancestor) (b : Ancestor) → slice_get xs 1 ≡ Some b → is_outermost xs ≡ false
inner [] b h = absurd (cc h)
inner (a ∷ []) b h = absurd (cc h)
inner (a ∷ c ∷ xs) b h = refl

-- no pair for the list of the program
pub no_pair : (a : Moment) → is_outermost a.around ≡ true → opens_list true a ≡ a
no_pair a h = ap (λ b. cond (true && not b) (with_pair a) a) h

-- one for another list
pub one_pair : (a : Moment) (ps : List Pending) → is_outermost a.around ≡ false → nothing_pending ∷ a.lists ≡ ps → opens_list true a ≡ with_lists ps a
one_pair a ps h e = ap (λ b. cond (true && not b) (with_pair a) a) h ∙ ap (λ qs. with_lists qs a) e

module _ (a b : Moment) (ts : Trees) where
  pub entered_list : opens_list true a ≡ b → EnteredList quiet true a ts b ts
  entered_list e = subst (λ c. EnteredList quiet true a ts c ts) e (record { stepped = λ n f k o. stays; leaves = λ n f k. k })

  pub exited_list : opens_list true b ≡ a → ExitedList quiet true a ts b ts
  exited_list e = subst (λ c. ExitedList quiet true c ts b ts) e (record { stepped = λ n f k o. stays; none = λ test w h. h; hooks = omega arith })

-- BODIES OF ARROWS

-- one for a body that is an expression
pub body_pair : (t : Tree) (a : Moment) (ps : List Pending) → is_statement_body t ≡ false → nothing_pending ∷ a.lists ≡ ps → opens_body true t a ≡ with_lists ps a
body_pair t a ps h e = ap (λ b. cond (true && not b) (with_pair a) a) h ∙ ap (λ qs. with_lists qs a) e

module _ (a b : Moment) where
  exited : (t : Tree) → opens_body true t b ≡ a → ExitedBody quiet true a t b t
  exited t e = record { closed = closed; same = λ k. (refl, sym (ap (λ c. cond c (with_pair b) b) k) ∙ e); none = λ test w h. h; hooks = omega arith }
    where
      closes : BodyStepped never (with_pair b) t b t
      closes n f o = subst (λ c. Steps (FieldStep never n) (ledger_with o b) (body nothing_pending (opened t)) (ledger_with o b) (if c then child (opened t) else body nothing_pending (opened t))) (sym f.expression) stays

      closed : (true && not (is_statement_body t)) ≡ true → BodyStepped never a t b t × (b.lists ≡ below a.lists)
      closed k = subst (λ c. BodyStepped never c t b t × (b.lists ≡ below c.lists)) (sym (ap (λ c. cond c (with_pair b) b) k) ∙ e) (closes, refl)

  pub exited_body : (t : Tree) → opens_body true t b ≡ a → Seen (λ u v. ExitedBody quiet true a u b v) t t
  exited_body t e names = exited (seen names t) (opens-seen ArrowBody true names t b ∙ e)
