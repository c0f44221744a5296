-- What the hook leaves: a `catch` that got a parameter, or a node that lacks none.
use Rattle.std.proofs.Common.{◌≡◌, ◌∙◌, ℕ, zero, suc, Bool, true, false, refl, sym, ap, subst, length, arith, [], ◌∷◌, inl, inr, Option, None, codes}
use Rattle.std.specs.Prelude.{◌&&◌}
use Rattle.es_tree.specs.Fresh.{IsFreshName, candidate}
use Rattle.es_tree.specs.HasForm.{has_form}
use Rattle.es_tree.specs.Tree.{Tree, Label, missing, one, fields_of, kind_of, label_of, tree_size}
use Rattle.es_tree.specs.Words.{Text}
use Rattle.es_tree.specs.declared.options.EnvOptions.{EnvOptions}
use Rattle.es_tree.specs.declared.table.Sort.{Sort}
use Rattle.es_resolution.specs.Declarations.{Bound}
use Rattle.es_resolution.specs.Seen.{seen}
use Rattle.es_steps.specs.Duplication.{IsNext}
use Rattle.es_steps.specs.Nodes.{identifier}
use Rattle.es_steps.specs.Open.{no_additions, opened}
use Rattle.es_steps.specs.OptionalCatch.{CatchRule}
use Rattle.es_steps.specs.OptionalCatch.CatchRule.{catches}
use Rattle.es_steps.specs.Rules.{next_name, with_made}
use Rattle.es_steps.specs.Steps.{Site, Step, ledger}
use Rattle.es_steps.specs.Steps.Step.{acts}
use Rattle.es_steps.specs.Steps.Steps.{goes, stays}
use Rattle.es_visit.specs.declared.hook.Hook.TheVariants.{CatchClause}
use Rattle.es_changes.specs.Changes.{lists_size, lists_weight}
use Rattle.es_changes.specs.Rules.{is_asked_for}
use Rattle.es_changes.specs.Moments.{Moment, below, ledger_at, top, whole_at}
use Rattle.es_conditions.specs.Laws.{catching}
use Rattle.es_conditions.proofs.Catches.{law_catch_proof}
use Rattle.es_traverse.specs.Laws.{KeptLoad, Seen, Settled, anywhere, is_construct}
use Rattle.es_traverse.specs.Loads.{load}
use Rattle.lower_temporaries.specs.SeenTrees.{IsSeenAs, no_bindings}
use Rattle.lower_temporaries.specs.Takings.{TakesBound}
use Rattle.lower_temporaries.proofs.Entered.{on-rule}
use Rattle.lower_temporaries.proofs.SeenLaws.{load-seen, size-seen}
use Rattle.lower_optional_catch.specs.Catches.{is_lowerable_catch, with_parameter}
use Rattle.lower_optional_catch.specs.Profile.{optional_catch_constructs, optional_catch_profile}
use Rattle.lower_optional_catch.proofs.BareClauses.{bare-catch, no-catch}

abbrev pub SettledBy : EnvOptions → Moment → Tree → Moment → Tree → Type 0
SettledBy o a t b u = Settled (optional_catch_profile o) CatchClause anywhere a t b u

abbrev IsLowerable : Tree → Type 0
IsLowerable t = is_lowerable_catch (kind_of t) (label_of t) (fields_of t) ≡ true

-- A PARAMETER WAS SET

-- a fresh name begins with an underscore
not-asked-for : (in_use : Text → Bool) (x : Text) → IsFreshName in_use (codes "unused") x → is_asked_for x ≡ false
not-asked-for in_use x f = ap is_asked_for f.name ∙ at f.number
  where
    at : (n : ℕ) → is_asked_for (candidate (codes "unused") n) ≡ false
    at zero = refl
    at (suc n) = refl

module _ (o : EnvOptions) (on : o.es2019.optional_catch_binding ≡ true) (a b : Moment) where
  -- it is a step of the rule
  step : (m : Label) (body : Tree) (x : Bound) (n : Site) → IsNext (whole_at a) (codes "unused") x → TakesBound x 1 a b → Step (optional_catch_profile o).rule n (ledger_at a) (opened (catching m missing body)) (ledger_at b) (opened (catching m (one (identifier x)) body))
  step m body x n next k =
      let w = whole_at a in
      let same : next_name w x.name ≡ x = λ i. record { name = x.name; symbol = sym next.symbol i } in
      let after : ledger (with_made (x ∷ []) w) (top a.lists) None no_additions ≡ ledger_at b = λ i. ledger (sym k.whole_is i) (top (sym k.lists_are i)) None no_additions in
      let acted = acts (catching m missing body) (catching m (one (identifier (next_name w x.name))) body) (on-rule CatchRule o.es2019.optional_catch_binding on n (ledger_at a) _ _ _ (catches next.fresh)) in
      subst (λ l. Step (optional_catch_profile o).rule n (ledger_at a) (opened (catching m missing body)) l (opened (catching m (one (identifier x)) body))) after
      (subst (λ q. Step (optional_catch_profile o).rule n (ledger_at a) (opened (catching m missing body)) (ledger (with_made (q ∷ []) w) (top a.lists) None no_additions) (opened (catching m (one (identifier q)) body))) same acted)

  named : (m : Label) (body : Tree) (x : Bound) → IsNext (whole_at a) (codes "unused") x → TakesBound x 1 a b → SettledBy o a (catching m missing body) b (catching m (one (identifier x)) body)
  named m body x next k =
      let t = catching m missing body in
      let u = catching m (one (identifier x)) body in
      record {
        stepped = λ n w f known. goes (step m body x n next k) stays;
        left = λ n w f known. law_catch_proof o n m body x (not-asked-for a.in_use x.name next.fresh) known;
        cleared = λ n w f known. ap (λ v. v && false) on;
        body = refl;
        order = inr (record { kind = refl; whole = refl });
      }

  pub caught : (t p : Tree) (x : Bound) → IsLowerable t → IsNext (whole_at a) (codes "unused") x → IsSeenAs p (identifier x) → TakesBound x 1 a b → Seen (λ v w. SettledBy o a v b w) t (with_parameter p t)
  caught t p x h next is k names =
      let c = bare-catch t h in
      let m = record c.label { id = 0; marks = [] } in
      subst (λ v. SettledBy o a (seen names v) b (seen names (with_parameter p v))) (sym c.is) (subst (λ q. SettledBy o a (catching m missing (seen names c.body)) b (catching m (one q) (seen names c.body))) (sym (is names)) (named m (seen names c.body) x next k))

pub kept-caught : (a b : Moment) (t p : Tree) (x : Bound) → IsLowerable t → IsSeenAs p (identifier x) → TakesBound x 1 a b → KeptLoad 0 a t b (with_parameter p t)
kept-caught a b t p x h is k =
    let c = bare-catch t h in
    let weights = ap lists_weight k.lists_are in
    let sizes = ap lists_size k.lists_are in
    let light : load p ≡ 1 = sym (load-seen no_bindings p) ∙ ap load (is no_bindings) in
    let small : tree_size p ≡ 1 = sym (size-seen no_bindings p) ∙ ap tree_size (is no_bindings) in
    subst (λ v. KeptLoad 0 a v b (with_parameter p v)) (sym c.is) (record {
      level = record { deep = ap length k.lists_are; outer = ap below k.lists_are };
      around = k.around_is;
      options = k.options_are;
      counted = omega (arith, k.next_is);
      lighter = omega (arith, k.next_is, weights, light);
      nodes = omega (arith, k.next_is, sizes, small);
    })

-- NOTHING WAS DONE, where it is off, or the node is no `catch` that has form and lacks a parameter

none-left : (on low : Bool) (names : ℕ → Text → Option ℕ) (t : Tree) (s : Sort) → low ≡ is_lowerable_catch (kind_of t) (label_of t) (fields_of t) → (on && low) ≡ false → has_form s (seen names t) ≡ true →
    is_construct (optional_catch_constructs on CatchClause) (seen names t) ≡ false
none-left false low names t s told e h = refl
none-left true low names t s told e h = no-catch names t s (sym told ∙ e) h

pub left-alone : (o : EnvOptions) (is_on : Bool) → is_on ≡ o.es2019.optional_catch_binding → (a : Moment) (t : Tree) → (is_on && is_lowerable_catch (kind_of t) (label_of t) (fields_of t)) ≡ false → Seen (λ v w. SettledBy o a v a w) t t
left-alone o is_on on a t e names = record {
  stepped = λ n w f known. stays;
  left = λ n w f known. known;
  cleared = λ n w f known. none-left o.es2019.optional_catch_binding (is_lowerable_catch (kind_of t) (label_of t) (fields_of t)) names t f.sort refl (ap (λ v. v && is_lowerable_catch (kind_of t) (label_of t) (fields_of t)) (sym on) ∙ e) f.formed;
  body = refl;
  order = inl refl;
}
