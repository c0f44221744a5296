-- Lists of texts name nothing, and keep each rule as the value of a declarator.
use Rattle.std.proofs.Common.{◌≡◌, ℕ, zero, suc, refl, List, [], ◌∷◌}
use Rattle.std.specs.Prelude.{Bool, Option}
use Rattle.es_tree.specs.Ancestors.{Ancestor, ancestor, place_of}
use Rattle.es_tree.specs.CoreStaticRules.{is_bad_target, is_stray_optional}
use Rattle.es_tree.specs.DeclaredNames.{Name}
use Rattle.es_tree.specs.Tree.{Tree, node, Label, Fields, done}
use Rattle.es_tree.specs.Words.{Text}
use Rattle.es_tree.specs.declared.ast_type.AstType.TheVariants.{ArrayExpression, StringLiteral}
use Rattle.es_tree.specs.declared.place.Place.TheVariants.{Other}
use Rattle.es_semantic.specs.RolesOf.{reads, role_at}
use Rattle.es_semantic.specs.declared.place.Role.{Role}
use Rattle.es_resolution.specs.Resolved.{Place, Resolved, ResolvedIn, place_in}
use Rattle.es_steps.specs.Identifiers.{Passes, PassesIn}
use Rattle.es_valid_steps.specs.PlaceRules.{KeepsHere, KeepsIn}
use Rattle.es_valid_names.proofs.Claims.{Around, Clear, ClearIn, claims, claims_in, elsewhere, is_owned, owned}
use Rattle.es_helper_calls.proofs.TextLists.{TextList, Texts}
use Rattle.es_helper_calls.proofs.TextLists.TextList.{text_list}
use Rattle.es_helper_calls.proofs.TextLists.Texts.{no_text, one_text}

-- NAMES

texts-resolved : (roles : ℕ → Role) (places : ℕ → Place) (fs : Fields) → Texts fs → ResolvedIn roles places fs
texts-resolved roles places ts no_text = tt
texts-resolved roles places ts (one_text {fs = fs} k h) = ((tt, refl, tt), texts-resolved (λ i. roles (suc i)) (λ i. places (suc i)) fs h)

pub list-resolved : (p : Place) (t : Tree) → TextList t → Resolved reads p t
list-resolved p t (text_list l fs h) = (tt, refl, texts-resolved (role_at reads ArrayExpression l fs) (place_in p ArrayExpression l (role_at reads ArrayExpression l fs) fs) fs h)

texts-pass : (q : Text → Option ℕ → Bool) (fs : Fields) → Texts fs → PassesIn q fs
texts-pass q ts no_text = tt
texts-pass q ts (one_text {fs = fs} k h) = ((tt, tt), texts-pass q fs h)

pub list-passes : (q : Text → Option ℕ → Bool) (t : Tree) → TextList t → Passes q t
list-passes q t (text_list l fs h) = (tt, texts-pass q fs h)

-- RULES OF DECLARED NAMES

texts-claim : (up : List Ancestor) (l : Label) (all : Fields) (m i : ℕ) (fs : Fields) → Texts fs → claims_in is_owned up ArrayExpression l all m i fs ≡ []
texts-claim up l all m i ts no_text = refl
texts-claim up l all m i ts (one_text {fs = fs} k h) = texts-claim up l all m (suc i) fs h

pub list-claims : (up : List Ancestor) (t : Tree) → TextList t → claims is_owned up t ≡ []
list-claims up t (text_list l fs h) = texts-claim up l fs 0 0 fs h

texts-clear : (c : Around) (gs : List (List Name)) (all : Fields) (i : ℕ) (fs : Fields) → Texts fs → ClearIn c gs elsewhere ArrayExpression all i fs
texts-clear c gs all i ts no_text = tt
texts-clear c gs all i ts (one_text {fs = fs} k h) = ((tt, refl, tt), texts-clear c gs all (suc i) fs h)

pub list-clear : (c : Around) (t : Tree) → TextList t → Clear c elsewhere t
list-clear c t (text_list l fs h) = (tt, refl, texts-clear c (owned elsewhere ArrayExpression l fs) fs 0 fs h)

-- RULES OF PLACES, in an array that stands in some node

module _ (l : Label) (all : Fields) (b : Ancestor) (up : List Ancestor) where
  abbrev at_text : ℕ → List Ancestor
  at_text i = ancestor ArrayExpression l all i 0 ∷ b ∷ up

  text-place : (i : ℕ) → place_of (at_text i) ≡ Other
  text-place zero = refl
  text-place (suc zero) = refl
  text-place (suc (suc i)) = refl

  text-here : (i : ℕ) (k : Label) → KeepsHere (at_text i) (node StringLiteral k done)
  text-here i k = record { jump = refl; label = refl; returned = refl; super_word = refl; target = λ j. is_bad_target (text-place i j) (node StringLiteral k done); chain = refl; mark = λ j. is_stray_optional (text-place i j) (node StringLiteral k done); deleted = refl; value = refl; using_word = refl; head = refl; item = refl; accessor = refl; rest = refl; declaration = refl; meta = refl }

  pub texts-keep : (i : ℕ) (fs : Fields) → Texts fs → KeepsIn (b ∷ up) ArrayExpression l all i fs
  texts-keep i ts no_text = tt
  texts-keep i ts (one_text {fs = fs} k h) = ((text-here i k, tt), texts-keep (suc i) fs h)
