-- Trees whose arrows can become functions, each node by itself; and the test, which says the same.
use Rattle.std.proofs.Common.{◌≡◌, ℕ, zero, suc, refl}
use Rattle.std.specs.Prelude.{◌&&◌, ◌||◌, not, Bool, true, false}
use Rattle.std.proofs.lemmas.Bool.{and_parts, and_from}
use Rattle.es_tree.specs.Ancestors.{ancestor}
use Rattle.es_tree.specs.Tree.{Tree, node, Fields, done, ◌then◌, Field, missing, one, many, statements, Trees, empty, ◌before◌}
use Rattle.es_tree.specs.declared.options.EnvOptions.{EnvOptions}
use Rattle.es_arrow_steps.specs.ThisFits.{reaches_in}
use Rattle.es_valid_steps.specs.ArrowNodes.{is_arrow_accessor}
use Rattle.es_valid_arrows.specs.ArrowPlaces.{arrow_in, arrows_fit, arrows_fit_all, arrows_fit_by, arrows_fit_in, is_outer, parameter_in}

abbrev mutual
  pub ArrowsFit : EnvOptions → Bool → Bool → Bool → Tree → Type 0
  ArrowsFit o arrow parameter reaches (node k l fs) =
      (((is_outer reaches k l fs && arrow) || is_arrow_accessor k l fs) ≡ false)
      × ArrowsFitIn o (λ i f. arrow_in o arrow parameter (ancestor k l done i 0) f) (λ i. parameter_in parameter (ancestor k l done i 0)) (λ i. reaches_in reaches (ancestor k l done i 0)) fs

  pub ArrowsFitIn : EnvOptions → (ℕ → Field → Bool) → (ℕ → Bool) → (ℕ → Bool) → Fields → Type 0
  ArrowsFitIn o arrows parameters reaches done = Unit {0}
  ArrowsFitIn o arrows parameters reaches (f then fs) =
      ArrowsFitBy o (arrows zero f) (parameters zero) (reaches zero) f
      × ArrowsFitIn o (λ i. arrows (suc i)) (λ i. parameters (suc i)) (λ i. reaches (suc i)) fs

  pub ArrowsFitBy : EnvOptions → Bool → Bool → Bool → Field → Type 0
  ArrowsFitBy o arrow parameter reaches missing = Unit {0}
  ArrowsFitBy o arrow parameter reaches (one t) = ArrowsFit o arrow parameter reaches t
  ArrowsFitBy o arrow parameter reaches (many ts) = ArrowsFitAll o arrow parameter reaches ts
  ArrowsFitBy o arrow parameter reaches (statements ts) = ArrowsFitAll o arrow parameter reaches ts

  pub ArrowsFitAll : EnvOptions → Bool → Bool → Bool → Trees → Type 0
  ArrowsFitAll o arrow parameter reaches empty = Unit {0}
  ArrowsFitAll o arrow parameter reaches (t before ts) = ArrowsFit o arrow parameter reaches t × ArrowsFitAll o arrow parameter reaches ts

-- of a program
abbrev pub FitsProgram : EnvOptions → Tree → Type 0
FitsProgram o p = ArrowsFit o false false true p

-- FROM THE TEST, and back

not-true : (b : Bool) → not b ≡ true → b ≡ false
not-true true e = absurd (cc e)
not-true false e = refl

not-false : (b : Bool) → b ≡ false → not b ≡ true
not-false true e = absurd (cc e)
not-false false e = refl

module _ (o : EnvOptions) where
  mutual
    pub to-fits : (arrow parameter reaches : Bool) (t : Tree) → arrows_fit o arrow parameter reaches t ≡ true → ArrowsFit o arrow parameter reaches t
    to-fits arrow parameter reaches (node k l fs) h =
        let p = and_parts (not ((is_outer reaches k l fs && arrow) || is_arrow_accessor k l fs)) (arrows_fit_in o (λ i f. arrow_in o arrow parameter (ancestor k l done i 0) f) (λ i. parameter_in parameter (ancestor k l done i 0)) (λ i. reaches_in reaches (ancestor k l done i 0)) fs) h in
        (not-true ((is_outer reaches k l fs && arrow) || is_arrow_accessor k l fs) p.0, to-fits-in (λ i f. arrow_in o arrow parameter (ancestor k l done i 0) f) (λ i. parameter_in parameter (ancestor k l done i 0)) (λ i. reaches_in reaches (ancestor k l done i 0)) fs p.1)

    to-fits-in : (arrows : ℕ → Field → Bool) (parameters reaches : ℕ → Bool) (fs : Fields) → arrows_fit_in o arrows parameters reaches fs ≡ true → ArrowsFitIn o arrows parameters reaches fs
    to-fits-in arrows parameters reaches done h = tt
    to-fits-in arrows parameters reaches (f then fs) h =
        let p = and_parts (arrows_fit_by o (arrows zero f) (parameters zero) (reaches zero) f) (arrows_fit_in o (λ i. arrows (suc i)) (λ i. parameters (suc i)) (λ i. reaches (suc i)) fs) h in
        (to-fits-by (arrows zero f) (parameters zero) (reaches zero) f p.0, to-fits-in (λ i. arrows (suc i)) (λ i. parameters (suc i)) (λ i. reaches (suc i)) fs p.1)

    to-fits-by : (arrow parameter reaches : Bool) (f : Field) → arrows_fit_by o arrow parameter reaches f ≡ true → ArrowsFitBy o arrow parameter reaches f
    to-fits-by arrow parameter reaches missing h = tt
    to-fits-by arrow parameter reaches (one t) h = to-fits arrow parameter reaches t h
    to-fits-by arrow parameter reaches (many ts) h = to-fits-all arrow parameter reaches ts h
    to-fits-by arrow parameter reaches (statements ts) h = to-fits-all arrow parameter reaches ts h

    to-fits-all : (arrow parameter reaches : Bool) (ts : Trees) → arrows_fit_all o arrow parameter reaches ts ≡ true → ArrowsFitAll o arrow parameter reaches ts
    to-fits-all arrow parameter reaches empty h = tt
    to-fits-all arrow parameter reaches (t before ts) h =
        let p = and_parts (arrows_fit o arrow parameter reaches t) (arrows_fit_all o arrow parameter reaches ts) h in
        (to-fits arrow parameter reaches t p.0, to-fits-all arrow parameter reaches ts p.1)

  mutual
    pub from-fits : (arrow parameter reaches : Bool) (t : Tree) → ArrowsFit o arrow parameter reaches t → arrows_fit o arrow parameter reaches t ≡ true
    from-fits arrow parameter reaches (node k l fs) h =
        and_from (not ((is_outer reaches k l fs && arrow) || is_arrow_accessor k l fs)) _ (not-false ((is_outer reaches k l fs && arrow) || is_arrow_accessor k l fs) h.0) (from-fits-in (λ i f. arrow_in o arrow parameter (ancestor k l done i 0) f) (λ i. parameter_in parameter (ancestor k l done i 0)) (λ i. reaches_in reaches (ancestor k l done i 0)) fs h.1)

    from-fits-in : (arrows : ℕ → Field → Bool) (parameters reaches : ℕ → Bool) (fs : Fields) → ArrowsFitIn o arrows parameters reaches fs → arrows_fit_in o arrows parameters reaches fs ≡ true
    from-fits-in arrows parameters reaches done h = refl
    from-fits-in arrows parameters reaches (f then fs) h =
        and_from (arrows_fit_by o (arrows zero f) (parameters zero) (reaches zero) f) (arrows_fit_in o (λ i. arrows (suc i)) (λ i. parameters (suc i)) (λ i. reaches (suc i)) fs) (from-fits-by (arrows zero f) (parameters zero) (reaches zero) f h.0) (from-fits-in (λ i. arrows (suc i)) (λ i. parameters (suc i)) (λ i. reaches (suc i)) fs h.1)

    from-fits-by : (arrow parameter reaches : Bool) (f : Field) → ArrowsFitBy o arrow parameter reaches f → arrows_fit_by o arrow parameter reaches f ≡ true
    from-fits-by arrow parameter reaches missing h = refl
    from-fits-by arrow parameter reaches (one t) h = from-fits arrow parameter reaches t h
    from-fits-by arrow parameter reaches (many ts) h = from-fits-all arrow parameter reaches ts h
    from-fits-by arrow parameter reaches (statements ts) h = from-fits-all arrow parameter reaches ts h

    from-fits-all : (arrow parameter reaches : Bool) (ts : Trees) → ArrowsFitAll o arrow parameter reaches ts → arrows_fit_all o arrow parameter reaches ts ≡ true
    from-fits-all arrow parameter reaches empty h = refl
    from-fits-all arrow parameter reaches (t before ts) h = and_from (arrows_fit o arrow parameter reaches t) (arrows_fit_all o arrow parameter reaches ts) (from-fits arrow parameter reaches t h.0) (from-fits-all arrow parameter reaches ts h.1)
