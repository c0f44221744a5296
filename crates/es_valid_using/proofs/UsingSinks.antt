-- A switch, a loop and its labels in the list of a `try` that stands in their place: what stands in them is offered the same there.
use Rattle.std.proofs.Common.{◌≡◌, ℕ, zero, suc, refl, sym, ◌∙◌, List, ◌∷◌, ◌++◌}
use Rattle.std.specs.Prelude.{true, false}
use Rattle.es_tree.specs.Ancestors.{Ancestor, ancestor, has_new_target, has_super_calls, has_super_members, is_breakable, is_in_function, is_in_loop, is_module, labels, place_of}
use Rattle.es_tree.specs.StaticRules.{is_bad_rest}
use Rattle.es_tree.specs.Tree.{Tree, Label, Fields, Trees}
use Rattle.es_tree.specs.declared.ast_type.AstType.{AstType}
use Rattle.es_tree.specs.declared.ast_type.AstType.TheVariants.{ForStatement, LabeledStatement, SwitchStatement}
use Rattle.es_tree.specs.declared.place.Place.TheVariants.{Other}
use Rattle.es_resolution.specs.Declarations.{Bound}
use Rattle.es_valid_steps.proofs.Offers.{Alike, Near, Offers, PlaceOffers}
use Rattle.es_valid_steps.proofs.Offers.PlaceOffers.{same_place}
use Rattle.es_valid_using.proofs.Frames.{no-constructor, no-rest}
use Rattle.es_valid_using.proofs.UsingPlaces.{inside_try}

-- all that is searched for outwards, but for what the parent itself is
pub record Around (up vp : List Ancestor) : Type 0 where
  pub labels : labels vp ≡ labels up
  pub loop : is_in_loop up ≡ true → is_in_loop vp ≡ true
  pub breakable : is_breakable up ≡ true → is_breakable vp ≡ true
  pub function : is_in_function up ≡ true → is_in_function vp ≡ true
  pub members : has_super_members up ≡ true → has_super_members vp ≡ true
  pub calls : has_super_calls up ≡ true → has_super_calls vp ≡ true
  pub targets : has_new_target up ≡ true → has_new_target vp ≡ true
  pub in_module : is_module vp ≡ is_module up

pub around-try : (c u : Bound) (us : Trees) (up : List Ancestor) → Around up (inside_try c u us up)
around-try c u us up = record { labels = refl; loop = λ h. h; breakable = λ h. h; function = λ h. h; members = λ h. h; calls = λ h. h; targets = λ h. h; in_module = refl }

pub around-offered : {up vp : List Ancestor} → Offers true up vp → Around up vp
around-offered o = record { labels = o.labels; loop = o.loop refl; breakable = o.breakable refl; function = o.function; members = o.members; calls = o.calls; targets = o.targets; in_module = o.in_module }

pub data Sunken : AstType → Type 0 where
  a_switch : Sunken SwitchStatement
  a_loop : Sunken ForStatement
  a_label : Sunken LabeledStatement

module _ (l : Label) (old new : Fields) where
  pub sunken-rest : (fs : Fields) (k : AstType) (i : ℕ) → Sunken k → (up : List Ancestor) (t : Tree) → is_bad_rest (ancestor k l fs i 0 ∷ up) t ≡ false
  sunken-rest fs k i a_switch up t = no-rest (ancestor SwitchStatement l fs i 0) refl refl up t
  sunken-rest fs k i a_loop up t = no-rest (ancestor ForStatement l fs i 0) refl refl up t
  sunken-rest fs k i a_label up t = no-rest (ancestor LabeledStatement l fs i 0) refl refl up t

  sunken-place : (k : AstType) (i : ℕ) → Sunken k → (up vp : List Ancestor) → PlaceOffers (place_of (ancestor k l old i 0 ∷ up)) (place_of (ancestor k l new i 0 ∷ vp))
  sunken-place k zero a_switch up vp = same_place Other
  sunken-place k zero a_loop up vp = same_place Other
  sunken-place k zero a_label up vp = same_place Other
  sunken-place k (suc zero) a_switch up vp = same_place Other
  sunken-place k (suc zero) a_loop up vp = same_place Other
  sunken-place k (suc zero) a_label up vp = same_place Other
  sunken-place k (suc (suc i)) a_switch up vp = same_place Other
  sunken-place k (suc (suc i)) a_loop up vp = same_place Other
  sunken-place k (suc (suc i)) a_label up vp = same_place Other

  module _ (up vp : List Ancestor) (o : Around up vp) where
    pub sunken-offers : (k : AstType) (i : ℕ) → Sunken k → Alike (ancestor k l old i 0) (ancestor k l new i 0) → Offers true (ancestor k l old i 0 ∷ up) (ancestor k l new i 0 ∷ vp)
    sunken-offers k i a_switch e = record { labels = λ j. e.labels j ++ o.labels j; loop = λ j h. o.loop h; breakable = λ j h. h; function = o.function; members = o.members; calls = o.calls; targets = o.targets; in_module = o.in_module; method = λ h. h; constructor = λ h. absurd (cc (h, no-constructor (ancestor SwitchStatement l old i 0) refl up)); class = λ h. h }
    sunken-offers k i a_loop e = record { labels = λ j. e.labels j ++ o.labels j; loop = λ j h. h; breakable = λ j h. h; function = o.function; members = o.members; calls = o.calls; targets = o.targets; in_module = o.in_module; method = λ h. h; constructor = λ h. absurd (cc (h, no-constructor (ancestor ForStatement l old i 0) refl up)); class = λ h. h }
    sunken-offers k i a_label e = record { labels = λ j. e.labels j ++ o.labels j; loop = λ j h. o.loop h; breakable = λ j h. o.breakable h; function = o.function; members = o.members; calls = o.calls; targets = o.targets; in_module = o.in_module; method = λ h. h; constructor = λ h. absurd (cc (h, no-constructor (ancestor LabeledStatement l old i 0) refl up)); class = λ h. h }

    pub sunken-near : (k : AstType) (i : ℕ) → Sunken k → Alike (ancestor k l old i 0) (ancestor k l new i 0) → Near (ancestor k l old i 0 ∷ up) (ancestor k l new i 0 ∷ vp)
    sunken-near k i s e = record { place = sunken-place k i s up vp; head = e; rest = λ t. sunken-rest new k i s vp t ∙ sym (sunken-rest old k i s up t) }
