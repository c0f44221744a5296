-- A step inside the fields of a node leaves the site of each field alike on the names that were in use.
use Rattle.std.proofs.Common.{◌≡◌, ℕ, refl, sym, ap, subst, [], ◌∷◌, List}
use Rattle.std.specs.Prelude.{Bool, true, false, Option}
use Rattle.es_tree.specs.Tree.{Label, Fields}
use Rattle.es_tree.specs.Ancestors.{ancestor}
use Rattle.es_tree.specs.declared.ast_type.AstType.{AstType}
use Rattle.es_semantic.specs.RolesOf.{reads, role_at}
use Rattle.es_semantic.specs.declared.place.Role.{Role}
use Rattle.es_resolution.specs.Declarations.{Bound, declared_in, sought}
use Rattle.es_resolution.specs.Resolved.{Place, place_in}
use Rattle.es_steps.specs.Open.{Additions, Open, OpenField, OpenFields, Pending, ◌and◌, gap, child, body, children, list, finished, finished_fields, written_body}
use Rattle.es_steps.specs.ObjectRest.{the_whole}
use Rattle.es_steps.specs.Sites.{AreAlike, LawCoreSites, LawSites, SitesStay, StandsInUse}
use Rattle.es_steps.specs.AllRules.{AllRules}
use Rattle.es_steps.specs.CoreRules.{rule_under}
use Rattle.es_steps.specs.Steps.{FieldStep, FieldsStep, IsExpression, Ledger, Site, Spot, Step, Whole, outline, site_in, site_in_body}
use Rattle.es_steps.specs.Steps.Ledger.{ledger}
use Rattle.es_steps.specs.Steps.FieldsStep.{in_first, in_later}
use Rattle.es_steps.specs.Steps.FieldStep.{in_child, in_body, in_children, in_list, in_target, in_program, acts_on_body, acts_on_list}
use Rattle.es_steps.specs.Nodes.{word}
use Rattle.es_tree.specs.Tree.{missing, node, one, ◌then◌}
use Rattle.es_steps.proofs.CoreLaws.{rule-under-lawful, rule-under-writes}
use Rattle.es_steps.proofs.Kept.{Change, every, Hoisted, KeptIn, Known, LexicalIn}
use Rattle.es_steps.proofs.Kept.Change.{above, below, lexed, sealed}
use Rattle.es_steps.proofs.Laws.{all-rules-lawful, all-rules-write}
use Rattle.es_resolution.proofs.Roles.{role-same}
use Rattle.es_steps.proofs.Sites.{FieldsAlike, PlacesAlike, SoughtAlike, places-alike}
use Rattle.es_steps.proofs.Bodies.{body-named}
use Rattle.es_steps.proofs.BodyPlaces.{body-places}
use Rattle.es_steps.proofs.Taken.{Lawful, Writes, body-called, known, taken, taken-in}

-- ANCESTORS: no field comes or goes

field-outline : {R : Site → Ledger → Spot → Ledger → Spot → Type 0} {n : Site} {s s' : Ledger} {f g : OpenField} (fs : OpenFields) → FieldStep R n s f s' g → outline (g and fs) ≡ outline (f and fs)
field-outline fs (in_child h) = refl
field-outline fs (in_children h) = refl
field-outline fs (in_body e x y h) = refl
field-outline fs (in_list e d h) = refl
field-outline fs (in_target e h) = refl
field-outline fs (in_program e h) = refl
field-outline fs (acts_on_list ts us h) = refl
field-outline fs (acts_on_body t u h) = refl

first-outline : (f : OpenField) (fs gs : OpenFields) → outline gs ≡ outline fs → outline (f and gs) ≡ outline (f and fs)
first-outline gap fs gs e = ap (λ z. missing then z) e
first-outline (child t) fs gs e = ap (λ z. one (word []) then z) e
first-outline (body p t) fs gs e = ap (λ z. one (word []) then z) e
first-outline (children ts) fs gs e = ap (λ z. one (word []) then z) e
first-outline (list p x a ts) fs gs e = ap (λ z. one (word []) then z) e

same-outline : {R : Site → Ledger → Spot → Ledger → Spot → Type 0} {c : ℕ → Site} {s s' : Ledger} {fs gs : OpenFields} → FieldsStep R c s fs s' gs → outline gs ≡ outline fs
same-outline (in_first {fs = fs} h) = field-outline fs h
same-outline (in_later {f = f} {fs = fs} {gs = gs} h) = first-outline f fs gs (same-outline h)

-- WHAT THE FIELDS DECLARE

hoisted-alike : (c : Change) (n : Known) (bs cs : List Bound) → Hoisted c n bs cs → SoughtAlike n.in_use bs cs
hoisted-alike above n bs cs h y u = ap (λ ds. sought ds y) h
hoisted-alike below n bs cs h y u = h.used y u
hoisted-alike lexed n bs cs h y u = ap (λ ds. sought ds y) h
hoisted-alike sealed n bs cs h y u = ap (λ ds. sought ds y) h

lexical-alike : (c : Change) (n : Known) (b : Bool) (bs cs : List Bound) → LexicalIn c n b bs cs → SoughtAlike n.in_use bs cs
lexical-alike above n b bs cs h y u = ap (λ ds. sought ds y) h
lexical-alike below n b bs cs h y u = ap (λ ds. sought ds y) h
lexical-alike lexed n true bs cs h y u = h.used y u
lexical-alike lexed n false bs cs h y u = ap (λ ds. sought ds y) h
lexical-alike sealed n b bs cs h y u = ap (λ ds. sought ds y) h

pub kept-alike : (n : Known) (bs : ℕ → Place) (c : Change) (roles : ℕ → Role) (fs gs : Fields) → KeptIn n bs c roles fs gs → FieldsAlike n.in_use roles fs gs
kept-alike n bs c roles fs gs h = record {
  own = h.own;
  lexical = λ counts. lexical-alike c n (counts h.spot) (declared_in false counts roles fs) (declared_in false counts roles gs) (h.lexical counts);
  hoisted = hoisted-alike c n (declared_in true every roles fs) (declared_in true every roles gs) h.hoisted;
}

-- what names find in a field, before and after
pub kept-places : (n : Known) (p : Place) (c : Change) (r : Role) (k : AstType) (l : Label) (fs gs : Fields) → KeptIn n (place_in p k l (role_at r k l fs) fs) c (role_at r k l fs) fs gs → (i : ℕ) → PlacesAlike n.in_use (place_in p k l (role_at r k l fs) fs i) (place_in p k l (role_at r k l gs) gs i)
kept-places n p c r k l fs gs h i =
    subst (λ (rs : ℕ → Role). PlacesAlike n.in_use (place_in p k l (role_at r k l fs) fs i) (place_in p k l rs gs i)) (sym (role-same r k l fs gs h.shape))
    (places-alike n.in_use p p (record { scope = λ y u. refl; parameters = λ y u. refl }) k l (role_at r k l fs) fs gs (kept-alike n (place_in p k l (role_at r k l fs) fs) c (role_at r k l fs) fs gs h) i)

module _ (R : Site → Ledger → Spot → Ledger → Spot → Type 0) (law : Lawful R) (writes : Writes R) where
  in-fields : (n : Site) (s s' : Ledger) (k : AstType) (l : Label) (fs gs : OpenFields) → StandsInUse (the_whole s) n.role (node k l (finished_fields fs)) → FieldsStep R (site_in n k l fs) s fs s' gs → (i : ℕ) → AreAlike (the_whole s).in_use (site_in n k l fs i) (site_in n k l gs i)
  in-fields n s s' k l fs gs used h i =
      let o = taken-in R law writes h (used.named.1, used.called.1) in
      let there = kept-places (known o) n.names o.change n.role k l (finished_fields fs) (finished_fields gs) o.kept i in
      record {
        need = refl;
        above = ap (λ z. ancestor k l z i 0 ∷ n.above) (same-outline h);
        role = λ j. role-same n.role k l (finished_fields fs) (finished_fields gs) o.kept.shape j i;
        scope = there.scope;
        parameters = there.parameters;
      }

  in-body : (n : Site) (w w' : Whole) (p q : Pending) (x x' : Option Bound) (a a' : Additions) (t u : Open) → IsExpression (finished t) → IsExpression (finished u) → StandsInUse w reads (written_body p (finished t)) → Step R (site_in_body n p (finished t)) (ledger w p x a) t (ledger w' q x' a') u → AreAlike w.in_use (site_in_body n p (finished t)) (site_in_body n q (finished u))
  in-body n w w' p q x x' a a' t u e d used h =
      let o = taken R law writes h (body-named w.in_use w.free_symbol p.vars p.lets (finished t) used.named, body-called w.called p.vars p.lets (finished t) used.called) in
      let there = body-places n.names o.change o.goes o.given w w' p q x x' a a' (finished t) (finished u) e d o.beside o.fresh in
      record { need = refl; above = refl; role = refl; scope = there.scope; parameters = there.parameters }

  pub sites-stay : SitesStay R
  sites-stay = record { in_fields = in-fields; in_body = in-body }

pub law_sites_proof : LawSites
law_sites_proof o = sites-stay (AllRules o) (all-rules-lawful o) (all-rules-write o)

pub law_core_sites_proof : LawCoreSites
law_core_sites_proof o = sites-stay (rule_under o) (rule-under-lawful o) (rule-under-writes o)
