-- The hook of an expression: a slot is wrapped, and what else stands there stays.
use Rattle.std.proofs.Common.{◌≡◌, ◌∙◌, ◌+◌, ◌<◌, ◌^◌, ◌-◌, ℕ, refl, sym, ap, subst, arith, inl, inr, Option, None, true≢false, List}
use Rattle.std.specs.Prelude.{Bool, true, false, not, ◌&&◌}
use Rattle.std.proofs.lemmas.Option.{none-some}
use Rattle.es_tree.specs.HasForm.{has_form}
use Rattle.es_tree.specs.Tree.{Tree, node, kind_of, tree_size}
use Rattle.es_tree.specs.Words.{Text}
use Rattle.es_tree.specs.declared.ast_type.AstType.TheVariants.{FunctionBody}
use Rattle.es_tree.specs.declared.options.EnvOptions.{EnvOptions}
use Rattle.es_tree.specs.declared.table.Sort.TheVariants.{Expression as s-Expression}
use Rattle.es_scope.specs.declared.ancestor.Ancestor.{Ancestor}
use Rattle.es_resolution.specs.Declarations.{is_var_scope}
use Rattle.es_resolution.specs.Seen.{seen}
use Rattle.es_steps.specs.Open.{is_statement_body}
use Rattle.es_steps.specs.Slots.{holds, is_slot}
use Rattle.es_steps.specs.Steps.{Site as Place}
use Rattle.es_steps.specs.Steps.Step.{acts}
use Rattle.es_steps.specs.Steps.Steps.{goes, stays}
use Rattle.es_steps.specs.WrapRule.{called_arrow, is_wrapped_for}
use Rattle.es_steps.specs.WrapRule.WrapRule.{wraps}
use Rattle.es_visit.specs.declared.hook.Hook.{Hook}
use Rattle.es_visit.specs.declared.hook.Hook.TheVariants.{Expression, Statement}
use Rattle.es_changes.specs.Changes.{HasRoom}
use Rattle.es_changes.specs.Fits.{Fits}
use Rattle.es_changes.specs.Moments.{Moment}
use Rattle.es_changes.proofs.Expressions.{law_expression_proof}
use Rattle.es_conditions.specs.CoreConditions.{is_fit, is_wrapped}
use Rattle.es_conditions.specs.Laws.{AreWrapped}
use Rattle.es_conditions.proofs.Wraps.{law_slots_proof}
use Rattle.es_traverse.specs.Laws.{EnteredAs, KeepsSort, KeptLoad}
use Rattle.es_traverse.specs.Loads.{load, wrapping_by}
use Rattle.es_traverse.specs.Sites.{Tells}
use Rattle.es_traverse.specs.declared.site.Site.{Site}
use Rattle.es_traverse.specs.declared.site.Site.TheVariants.{Slot}
use Rattle.lower_temporaries.specs.Takings.{with_ids}
use Rattle.lower_writing.specs.Slots.{is_slot_at}
use Rattle.lower_writing.specs.Wrapping.{IsCallOf, is_slot_hook, is_to_wrap}
use Rattle.lower_writing.specs.Writing.{common_profile}
use Rattle.lower_writing.proofs.SeenTests.{holds-seen}
use Rattle.lower_temporaries.proofs.SeenLaws.{load-seen, size-seen}
use Rattle.lower_writing.proofs.SlotSites.{alike-slot, read-slot}

false-or-not : (b : Bool) → (b ≡ true → ⊥) → b ≡ false
false-or-not true h = absurd (h refl)
false-or-not false h = refl

and-left : (a b : Bool) → (a && b) ≡ true → a ≡ true
and-left true b h = refl
and-left false b h = h

and-right : (a b : Bool) → (a && b) ≡ true → b ≡ true
and-right true b h = h
and-right false b h = absurd (true≢false (sym h))

-- of three tests that don't all hold the third fails where the others hold
last-fails : (a b c : Bool) → (a && not b && c) ≡ false → a ≡ true → b ≡ false → c ≡ false
last-fails true false c h e d = h
last-fails true true c h e d = absurd (true≢false d)
last-fails false b c h e d = absurd (true≢false (sym e))

-- what has the form of an expression is no body of statements
no-body : (t : Tree) → is_var_scope (kind_of t) ≡ false → is_statement_body t ≡ false
no-body (node FunctionBody l fs) h = h
no-body (node _ l fs) h = refl

abbrev no_slot : Place → Site → Type 0
no_slot n c = c ≡ Slot → ⊥

not-slot : (c : Site) (n : Place) → no_slot n c → Tells c n → is_slot n.above ≡ false
not-slot c n e tells = false-or-not (is_slot n.above) (λ s. e (tells.slot s))

other-site : (c : Site) → is_slot_hook Expression c ≡ false → c ≡ Slot → ⊥
other-site Slot h e = true≢false h
other-site _ h e = cc

-- WHERE IT STAYS

module _ (o : EnvOptions) where
  slots : AreWrapped o
  slots = law_slots_proof o

  -- an expression elsewhere, or another node
  pub entered-other : (h : Hook) (c : Site) (a : Moment) (t : Tree) → is_slot_hook h c ≡ false → EnteredAs (common_profile o) h c a t a t
  entered-other Expression c a t e = record { stepped = λ n tells f k. stays; left = λ n tells f k. slots.elsewhere n t (not-slot c n (other-site c e) tells) k; cleared = λ n tells f k. refl; sort = λ h e. inl e; body = refl; order = inl refl }
  entered-other Statement c a t e = record { stepped = λ n tells f k. stays; left = λ n tells f k. k; cleared = λ n tells f k. refl; sort = λ h e. inl e; body = refl; order = inl refl }
  entered-other _ c a t e = record { stepped = λ n tells f k. stays; left = λ n tells f k. k; cleared = λ n tells f k. refl; body = refl; order = inl refl }

  -- whether it is a slot, and what is known there
  slot-there : (n : Place) (a : Moment) (t : Tree) → Tells Slot n → Fits a n t → is_slot n.above ≡ is_slot_at a.around
  slot-there n a t tells f = alike-slot f.stands.place (tells.leads refl)

  formed-there : (n : Place) (a : Moment) (t : Tree) → Fits a n t → is_slot n.above ≡ true → has_form s-Expression t ≡ true
  formed-there n a t f s = subst (λ x. has_form x t ≡ true) (f.slot s) f.formed

  body-there : (t : Tree) → has_form s-Expression t ≡ true → is_statement_body t ≡ false
  body-there t h = no-body t (law_expression_proof t h).no_body

  left-by : (b : Bool) (n : Place) (a : Moment) (t : Tree) → is_slot n.above ≡ b → Tells Slot n → Fits a n t → is_to_wrap o a.around t ≡ false → is_fit o n t ≡ true → is_wrapped o n t ≡ true
  left-by false n a t s tells f e k = slots.elsewhere n t s k
  left-by true n a t s tells f e k =
      slots.held n t (last-fails (is_slot_at a.around) (is_statement_body t) (holds (is_wrapped_for o) t) e (sym (slot-there n a t tells f) ∙ s) (body-there t (formed-there n a t f s))) k

  -- a slot that isn't to be wrapped, or none
  pub entered-left : (h : Hook) (c : Site) (a : Moment) (t : Tree) → is_slot_hook h c ≡ true → is_to_wrap o a.around t ≡ false → EnteredAs (common_profile o) h c a t a t
  entered-left Expression Slot a t e w = record { stepped = λ n tells f k. stays; left = λ n tells f k. left-by (is_slot n.above) n a t refl tells f w k; cleared = λ n tells f k. refl; sort = λ h e. inl e; body = refl; order = inl refl }
  entered-left _ c a t e w = absurd (true≢false (sym e))

  -- WHERE IT IS WRAPPED

  slot-wrapped : (n : Place) (a : Moment) (t : Tree) → is_to_wrap o a.around t ≡ true → Tells Slot n → Fits a n t → is_slot n.above ≡ true
  slot-wrapped n a t w tells f = slot-there n a t tells f ∙ and-left (is_slot_at a.around) (not (is_statement_body t)) (and-left (is_slot_at a.around && not (is_statement_body t)) (holds (is_wrapped_for o) t) w)

  not-true : (b : Bool) → not b ≡ true → b ≡ false
  not-true true h = absurd (true≢false (sym h))
  not-true false h = refl

  sort-wrapped : (t : Tree) → KeepsSort Expression t (called_arrow t)
  sort-wrapped t h e = absurd (none-some _ e)

  wrapped : (a : Moment) (t : Tree) → is_to_wrap o a.around t ≡ true → EnteredAs (common_profile o) Expression Slot a t (with_ids 2 a) (called_arrow t)
  wrapped a t w = record {
    stepped = λ n tells f k.
        let s = slot-wrapped n a t w tells f in
        goes (acts t (called_arrow t) (inr (wraps (read-slot f.stands.place s) (law_expression_proof t (formed-there n a t f s)) s (and-right (is_slot_at a.around && not (is_statement_body t)) (holds (is_wrapped_for o) t) w)))) stays;
    left = λ n tells f k. let s = slot-wrapped n a t w tells f in slots.arrow n t (formed-there n a t f s) s k;
    cleared = λ n tells f k. refl;
    sort = sort-wrapped t;
    body = sym (not-true (is_statement_body t) (and-right (is_slot_at a.around) (not (is_statement_body t)) (and-left (is_slot_at a.around && not (is_statement_body t)) (holds (is_wrapped_for o) t) w)));
    order = inr (record { inside = t; is_call = refl });
  }

  pub entered-wrapped : (h : Hook) (c : Site) (a b : Moment) (t u : Tree) → is_slot_hook h c ≡ true → is_to_wrap o a.around t ≡ true → b ≡ with_ids 2 a → u ≡ called_arrow t → EnteredAs (common_profile o) h c a t b u
  entered-wrapped Expression Slot a b t u e w h g =
      subst (λ m. EnteredAs (common_profile o) Expression Slot a t m u) (sym h) (subst (λ v. EnteredAs (common_profile o) Expression Slot a t (with_ids 2 a) v) (sym g) (wrapped a t w))
  entered-wrapped _ c a b t u e w h g = absurd (true≢false (sym e))

-- of what is seen
pub to-wrap-seen : (names : ℕ → Text → Option ℕ) (o : EnvOptions) (up : List Ancestor) (t : Tree) → is_to_wrap o up (seen names t) ≡ is_to_wrap o up t
to-wrap-seen names o up (node FunctionBody l fs) = λ i. is_slot_at up && false && holds-seen names o (node FunctionBody l fs) i
to-wrap-seen names o up (node k l fs) = λ i. is_slot_at up && not (is_statement_body (node k l fs)) && holds-seen names o (node k l fs) i

-- WHAT IS KEPT

pub kept-load : (more : ℕ) (a : Moment) (t : Tree) → KeptLoad more a t a t
kept-load more a t = record { level = record { deep = refl; outer = refl }; around = refl; options = refl; counted = omega arith; lighter = omega arith; nodes = omega arith }

pub slot-allowance : (h : Hook) (c : Site) → is_slot_hook h c ≡ true → wrapping_by true h c ≡ 20
slot-allowance Expression Slot e = refl
slot-allowance _ c e = absurd (true≢false (sym e))

abbrev no_names : ℕ → Text → Option ℕ
no_names s x = None

kept-called : (a : Moment) (t u : Tree) → IsCallOf t u → KeptLoad 20 a t (with_ids 2 a) u
kept-called a t u h =
    let l = ap load (h no_names) in
    let s = ap tree_size (h no_names) in
    record {
      level = record { deep = refl; outer = refl };
      around = refl;
      options = refl;
      counted = omega arith;
      lighter = omega (arith, l, load-seen no_names t, load-seen no_names u);
      nodes = omega (arith, s, size-seen no_names t, size-seen no_names u);
    }

pub kept-wrapped : (h : Hook) (c : Site) (a b : Moment) (t u : Tree) → is_slot_hook h c ≡ true → b ≡ with_ids 2 a → IsCallOf t u → KeptLoad (wrapping_by true h c) a t b u
kept-wrapped h c a b t u e g call = subst (λ m. KeptLoad (wrapping_by true h c) a t m u) (sym g) (subst (λ (m : ℕ). KeptLoad m a t (with_ids 2 a) u) (sym (slot-allowance h c e)) (kept-called a t u call))

-- there is room for its two ids
pub room-for-call : (h : Hook) (c : Site) (a : Moment) (w : ℕ) → is_slot_hook h c ≡ true → HasRoom a (w + wrapping_by true h c) → a.next + 1 < 2 ^ 32 - 1
room-for-call h c a w e room = let more = slot-allowance h c e in omega (arith, room, more)
