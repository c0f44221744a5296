-- A name in use is found at the top of a program where it was found before, with constants of new names or without.
use Rattle.std.proofs.Common.{◌≡◌, ◌∙◌, ℕ, refl, sym, ap, List, [], ◌∷◌, ◌++◌}
use Rattle.std.specs.Prelude.{Bool, true, false, ◌||◌, Option, Some, None, is_some, if◌then◌else◌}
use Rattle.std.proofs.lemmas.Bool.{or_parts}
use Rattle.es_tree.specs.Tree.{Tree, Label, Field, Trees, empty, ◌before◌}
use Rattle.es_tree.specs.Words.{Text}
use Rattle.es_semantic.specs.RolesOf.{reads}
use Rattle.es_semantic.specs.declared.place.Role.{Role}
use Rattle.es_semantic.specs.declared.place.Role.TheVariants.{Top}
use Rattle.es_resolution.specs.Declarations.{Bound, declared, declared_among, declared_by, sought}
use Rattle.es_resolution.specs.Resolved.{IsResolved, bound_by}
use Rattle.es_resolution.proofs.Declares.{bound-append, bound-both}
use Rattle.es_steps.specs.Nodes.{joined_trees}
use Rattle.es_steps.specs.Open.{after_imports, is_import}
use Rattle.es_steps.specs.Steps.{Whole}
use Rattle.es_top_imports.specs.Laws.{AreNew, list_place}
use Rattle.es_top_imports.proofs.TopForms.{IsProgram, is_program, program_with}
use Rattle.es_top_constants.specs.Laws.{AreLists, names_of}
use Rattle.es_top_constants.specs.TopConstants.{Constant, with_constants}
use Rattle.es_top_constants.proofs.Constants.{constants-declare, constants-hoist, the_constants}
use Rattle.es_top_constants.proofs.EachNew.{each-fresh}
use Rattle.es_helper_imports.proofs.DeclaredSymbols.{list-finds, top_declares}

-- A LIST with statements that don't declare this name

module _ (x : Text) (v : Bool) (r : Role) where
  abbrev finds : Trees → Bool
  finds ts = bound_by (declared_among v r ts) x

  joined-finds : (xs ts : Trees) → finds xs ≡ false → finds (joined_trees xs ts) ≡ finds ts
  joined-finds empty ts e = refl
  joined-finds (t before xs) ts e =
      let parts = or_parts (bound_by (declared v r t) x) (finds xs) (sym (bound-append (declared v r t) (declared_among v r xs) x) ∙ e) in
      bound-append (declared v r t) (declared_among v r (joined_trees xs ts)) x ∙ (λ i. parts.0 i || joined-finds xs ts parts.1 i)

  after-finds : (news ts : Trees) → finds news ≡ false → finds (after_imports news ts) ≡ finds ts
  after-finds news empty e = e
  after-finds news (t before ts) e = at (is_import t) (after-finds news ts e)
    where
      at : (b : Bool) → finds (after_imports news ts) ≡ finds ts → finds (if b then t before after_imports news ts else joined_trees news (t before ts)) ≡ finds (t before ts)
      at true rest = bound-append (declared v r t) (declared_among v r (after_imports news ts)) x ∙ ((λ i. bound_by (declared v r t) x || rest i) ∙ sym (bound-append (declared v r t) (declared_among v r ts) x))
      at false rest = joined-finds news (t before ts) e

same-bound : (x : Text) (ds bs cs : List Bound) → bound_by cs x ≡ bound_by bs x → bound_by (ds ++ (cs ++ [])) x ≡ bound_by (ds ++ (bs ++ [])) x
same-bound x ds bs cs e = bound-append ds (cs ++ []) x ∙ ((λ i. bound_by ds x || (bound-append cs [] x ∙ ((λ j. e j || false) ∙ sym (bound-append bs [] x))) i) ∙ sym (bound-append ds (bs ++ []) x))

-- A PROGRAM

top-finds : (x : Text) (v : Bool) (l : Label) (d : Field) (news ts : Trees) → finds x v Top news ≡ false → top_declares v x (program_with l d (after_imports news ts)) ≡ top_declares v x (program_with l d ts)
top-finds x true l d news ts e = same-bound x (declared_by true reads d) (declared_among true Top ts) (declared_among true Top (after_imports news ts)) (after-finds x true Top news ts e)
top-finds x false l d news ts e = same-bound x (declared_by false reads d) (declared_among false Top ts) (declared_among false Top (after_imports news ts)) (after-finds x false Top news ts e)

-- a new name isn't in use
new-unfound : (w : Whole) (bs : List Bound) (x : Text) → AreNew w.in_use w.free_symbol bs → w.in_use x ≡ true → bound_by bs x ≡ false
new-unfound w bs x new used = at (sought bs x) refl
  where
    at : (o : Option (Option ℕ)) → sought bs x ≡ o → is_some o ≡ false
    at None e = refl
    at (Some o) e = absurd (let free = each-fresh bs w new x o e in cc)

with-nothing : (bs : List Bound) (x : Text) → bound_by bs x ≡ false → bound_by ((bs ++ []) ++ []) x ≡ false
with-nothing bs x e = bound-both (bs ++ []) [] x false false (bound-both bs [] x false false e refl) refl

pub finds-same : (cs : List Constant) (w : Whole) (p : Tree) → IsProgram p → AreNew w.in_use w.free_symbol (names_of cs) → AreLists w cs → IsResolved p → IsResolved (with_constants cs p) → (x : Text) → w.in_use x ≡ true → is_some ((list_place (with_constants cs p)).scope x) ≡ is_some ((list_place p).scope x)
finds-same [] w p program new lists old now x used = refl
finds-same (c ∷ cs) w p (is_program l d ts) new lists old now x used =
    let news : Trees = the_constants (c ∷ cs) before empty in
    let lexical : finds x false Top news ≡ false = ap (λ (bs : List Bound). bound_by ((bs ++ []) ++ []) x) (constants-declare w (c ∷ cs) lists) ∙ with-nothing (names_of (c ∷ cs)) x (new-unfound w (names_of (c ∷ cs)) x new used) in
    let hoisted : finds x true Top news ≡ false = ap (λ (bs : List Bound). bound_by ((bs ++ []) ++ []) x) (constants-hoist w (c ∷ cs) lists) in
    list-finds (program_with l d (after_imports news ts)) refl now x ∙ ((λ i. top-finds x false l d news ts lexical i || top-finds x true l d news ts hoisted i) ∙ sym (list-finds (program_with l d ts) refl old x))
