-- What a source becomes at the very end: names for `this` are set in its constructors, or it stays as it is.
use Rattle.std.proofs.Common.{◌≡◌, ◌∙◌, ◌*◌, ◌≤◌, List, [], ℕ, ap, arith, refl, sym, subst}
use Rattle.std.specs.Prelude.{Bool, true, false, if◌then◌else◌}
use Rattle.es_tree.specs.Constructs.{has_enabled_construct}
use Rattle.es_tree.specs.Fresh.{is_among}
use Rattle.es_tree.specs.HasForm.{has_form}
use Rattle.es_tree.specs.StaticRules.{breaks}
use Rattle.es_tree.specs.Tree.{Tree, tree_size}
use Rattle.es_tree.specs.Words.{Text}
use Rattle.es_tree.specs.declared.options.EnvOptions.{EnvOptions}
use Rattle.es_tree.specs.declared.table.Sort.TheVariants.{Program as s-Program}
use Rattle.es_super_calls.specs.declared.standing.ClassStanding.TheVariants.{Elsewhere}
use Rattle.es_constructor_this.proofs.SetConstructs.{law_set_none_proof}
use Rattle.es_constructor_this.proofs.SetSizes.{law_set_size_proof}
use Rattle.es_constructor_this.proofs.SetStays.{law_set_stays_proof}
use Rattle.es_lowered.specs.Set.{IsSet}
use Rattle.es_lowered.proofs.Set.{law_set_proof, law_unset_proof}
use Rattle.lower_driver.specs.Sets.{Sets}

module _ (on : Bool) (made : List Text) (imported written : Tree) (sets : Sets on made imported written) where
  pub is-set : has_form s-Program imported ≡ true → breaks imported ≡ [] → IsSet on imported written
  is-set form right = at on refl
    where
      at : (b : Bool) → on ≡ b → IsSet on imported written
      at true e = subst (λ (b : Bool). IsSet b imported written) (sym e) (subst (λ (t : Tree). IsSet true imported t) (sym (sets.goes e)) (law_set_proof (is_among made) imported form right))
      at false e = subst (λ (t : Tree). IsSet on imported t) (sym (sets.stays e)) (law_unset_proof on imported form right)

  pub none-after : (o : EnvOptions) → has_enabled_construct o imported ≡ false → has_enabled_construct o written ≡ false
  none-after o none = at on refl
    where
      at : (b : Bool) → on ≡ b → has_enabled_construct o written ≡ false
      at true e = ap (has_enabled_construct o) (sets.goes e) ∙ law_set_none_proof o (is_among made) imported none
      at false e = ap (has_enabled_construct o) (sets.stays e) ∙ none

  pub set-size : (n : ℕ) → tree_size imported ≤ n → tree_size written ≤ (if on then 3 else 1) * n
  set-size n h = at on refl
    where
      at : (b : Bool) → on ≡ b → tree_size written ≤ (if b then 3 else 1) * n
      at true e = let size = law_set_size_proof (is_among made) Elsewhere imported in rw (sets.goes e) (omega (arith, size, h))
      at false e = rw (sets.stays e) (omega (arith, h))

-- of a program of which no name was made
pub sets-itself : (on : Bool) (p : Tree) → Sets on [] p p
sets-itself on p = record { goes = λ e. sym (law_set_stays_proof (is_among []) Elsewhere p (λ x. refl)); stays = λ e. refl }
