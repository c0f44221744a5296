-- Alike sites are an equivalence, and have alike sites inwards.
use Rattle.std.proofs.Common.{◌≡◌, ℕ, refl, sym, ap, subst, ◌∙◌, List, [], ◌∷◌}
use Rattle.std.specs.Prelude.{Bool, true, false, ◌&&◌, Option, is_some, map, if◌then◌else◌}
use Rattle.es_tree.specs.Words.{Text}
use Rattle.es_tree.specs.Tree.{Tree, Label, Fields}
use Rattle.es_tree.specs.Ancestors.{ancestor}
use Rattle.es_tree.specs.declared.ast_type.AstType.{AstType}
use Rattle.es_tree.specs.declared.ast_type.AstType.TheVariants.{ClassDeclaration, ClassExpression, FunctionBody, FunctionExpression}
use Rattle.es_runs.specs.Alike.{needs}
use Rattle.es_semantic.specs.Places.{is_inside}
use Rattle.es_semantic.specs.RolesOf.{reads, role_at}
use Rattle.es_semantic.specs.ScopesOf.{is_function}
use Rattle.es_semantic.specs.declared.place.Role.{Role}
use Rattle.es_resolution.specs.Declarations.{Bound, sought, symbol_of, has_scope, is_var_scope, declared_in}
use Rattle.es_resolution.specs.Resolved.{Place, around, bound_by, class_frame, first_declared, frame, inner, name_frame, no_name, or_around, parameters_in, place_in, var_frame, vars_in, with_symbol, within, within_vars}
use Rattle.es_steps.specs.Nodes.{made}
use Rattle.es_steps.specs.Open.{OpenFields, Pending, finished_fields}
use Rattle.es_steps.specs.Sites.{AreAlike, LawAlike, LawAlikeOnFewer, LawInwards}
use Rattle.es_steps.specs.Steps.{Site, body_fields, names_in_body, outline, site_in, site_in_body}
use Rattle.es_resolution.proofs.Basics.{either_of, sought-append}
use Rattle.es_steps.proofs.Kept.{every}

pub law_alike_proof : LawAlike
law_alike_proof used = record {
  reflexive = λ n. record { need = refl; above = refl; role = refl; scope = λ x u. refl; parameters = λ x u. refl };
  symmetric = λ n m a. record { need = sym a.need; above = sym a.above; role = sym a.role; scope = λ x u. sym (a.scope x u); parameters = λ x u. sym (a.parameters x u) };
  transitive = λ n m o a b. record { need = b.need ∙ a.need; above = b.above ∙ a.above; role = b.role ∙ a.role; scope = λ x u. b.scope x u ∙ a.scope x u; parameters = λ x u. b.parameters x u ∙ a.parameters x u };
}

pub law_alike_on_fewer_proof : LawAlikeOnFewer
law_alike_on_fewer_proof used fewer n m more a = record { need = a.need; above = a.above; role = a.role; scope = λ x u. a.scope x (more x u); parameters = λ x u. a.parameters x (more x u) }

-- WHAT NAMES FIND IN A FIELD

-- the same for each of these names
abbrev pub AgreeOnUsed : (Text → Bool) → (Text → Option ℕ) → (Text → Option ℕ) → Type 0
AgreeOnUsed used f g = (y : Text) → used y ≡ true → g y ≡ f y

abbrev pub SoughtAlike : (Text → Bool) → List Bound → List Bound → Type 0
SoughtAlike used bs cs = (y : Text) → used y ≡ true → sought cs y ≡ sought bs y

-- what names find here, and which are parameters
pub record PlacesAlike (used : Text → Bool) (p q : Place) : Type 0 where
  pub scope : AgreeOnUsed used p.scope q.scope
  pub parameters : (y : Text) → used y ≡ true → q.parameters y ≡ p.parameters y

-- fields that declare the same of these names
pub record FieldsAlike (used : Text → Bool) (roles : ℕ → Role) (fs gs : Fields) : Type 0 where
  pub own : first_declared roles gs ≡ first_declared roles fs
  pub lexical : (counts : ℕ → Bool) → SoughtAlike used (declared_in false counts roles fs) (declared_in false counts roles gs)
  pub hoisted : SoughtAlike used (declared_in true every roles fs) (declared_in true every roles gs)

alike-if : (used : Text → Bool) (b : Bool) (f f' g g' : Text → Option ℕ) → AgreeOnUsed used f f' → AgreeOnUsed used g g' → AgreeOnUsed used (if b then f else g) (if b then f' else g')
alike-if used true f f' g g' a c = a
alike-if used false f f' g g' a c = c

alike-within : (used : Text → Bool) (bs cs : List Bound) (f g : Text → Option ℕ) → SoughtAlike used bs cs → AgreeOnUsed used f g → AgreeOnUsed used (within bs f) (within cs g)
alike-within used bs cs f g s a = λ y u i. or_around (s y u i) (a y u i)

module _ (used : Text → Bool) (p q : Place) (a : PlacesAlike used p q) (k : AstType) (l : Label) (roles : ℕ → Role) (fs gs : Fields) (h : FieldsAlike used roles fs gs) where
  name-alike-by : (k : AstType) → name_frame k roles gs ≡ name_frame k roles fs
  name-alike-by FunctionExpression = h.own
  name-alike-by _ = refl

  class-alike-by : (k : AstType) → class_frame k l roles gs ≡ class_frame k l roles fs
  class-alike-by ClassDeclaration = ap (λ ds. map (with_symbol (symbol_of l)) ds) h.own
  class-alike-by ClassExpression = ap (λ ds. map (with_symbol (symbol_of l)) ds) h.own
  class-alike-by _ = refl

  frame-alike : SoughtAlike used (frame k l roles fs) (frame k l roles gs)
  frame-alike y u =
      sought-append (class_frame k l roles gs) (declared_in false (is_inside k) roles gs) y
      ∙ ((λ i. either_of (sought (class-alike-by k i) y) (h.lexical (is_inside k) y u i)) ∙ sym (sought-append (class_frame k l roles fs) (declared_in false (is_inside k) roles fs) y))

  around-alike : AgreeOnUsed used (around p k roles fs) (around q k roles gs)
  around-alike = alike-within used (name_frame k roles fs) (name_frame k roles gs) p.scope q.scope (λ y u. ap (λ ds. sought ds y) (name-alike-by k)) a.scope

  vars-alike : AgreeOnUsed used (vars_in p k roles fs) (vars_in q k roles gs)
  vars-alike = alike-if used (is_var_scope k) (within_vars p.parameters (var_frame roles fs) (around p k roles fs)) (within_vars q.parameters (var_frame roles gs) (around q k roles gs)) (around p k roles fs) (around q k roles gs) (λ y u i. if a.parameters y u i then around-alike y u i else or_around (h.hoisted y u i) (around-alike y u i)) around-alike

  parameters-alike : (y : Text) → used y ≡ true → parameters_in k l roles gs y ≡ parameters_in k l roles fs y
  parameters-alike y u = at (is_function k)
    where
      at : (b : Bool) → (if b then bound_by (frame k l roles gs) else no_name) y ≡ (if b then bound_by (frame k l roles fs) else no_name) y
      at true = ap (λ z. is_some z) (frame-alike y u)
      at false = refl

  pub places-alike : (i : ℕ) → PlacesAlike used (place_in p k l roles fs i) (place_in q k l roles gs i)
  places-alike i = record {
    scope = alike-if used (has_scope k && is_inside k i) (inner p k l roles fs) (inner q k l roles gs) (around p k roles fs) (around q k roles gs) (alike-within used (frame k l roles fs) (frame k l roles gs) (vars_in p k roles fs) (vars_in q k roles gs) frame-alike vars-alike) around-alike;
    parameters = parameters-alike;
  }

pub fields-themselves : (used : Text → Bool) (roles : ℕ → Role) (fs : Fields) → FieldsAlike used roles fs fs
fields-themselves used roles fs = record { own = refl; lexical = λ counts y u. refl; hoisted = λ y u. refl }

-- INWARDS

pub of-site : {used : Text → Bool} {n m : Site} → AreAlike used n m → PlacesAlike used n.names m.names
of-site a = record { scope = a.scope; parameters = a.parameters }

pub place-inwards : (used : Text → Bool) (p q : Place) → PlacesAlike used p q → (k : AstType) (l : Label) (r : Role) (fs : Fields) (i : ℕ) → PlacesAlike used (place_in p k l (role_at r k l fs) fs i) (place_in q k l (role_at r k l fs) fs i)
place-inwards used p q a k l r fs i = places-alike used p q a k l (role_at r k l fs) fs fs (fields-themselves used (role_at r k l fs) fs) i

pub site-inwards : (used : Text → Bool) (n m : Site) → AreAlike used n m → (k : AstType) (l : Label) (fs : Fields) (i : ℕ) → PlacesAlike used (place_in n.names k l (role_at n.role k l fs) fs i) (place_in m.names k l (role_at m.role k l fs) fs i)
site-inwards used n m a k l fs i = subst (λ (r : Role). PlacesAlike used (place_in n.names k l (role_at n.role k l fs) fs i) (place_in m.names k l (role_at r k l fs) fs i)) (sym a.role) (place-inwards used n.names m.names (of-site a) k l n.role fs i)

pub alike-in : (used : Text → Bool) (n m : Site) → AreAlike used n m → (k : AstType) (l : Label) (fs : OpenFields) (i : ℕ) → AreAlike used (site_in n k l fs i) (site_in m k l fs i)
alike-in used n m a k l fs i =
    let there = site-inwards used n m a k l (finished_fields fs) i in
    record {
      need = ap (λ z. needs z k l.texts l.flags i) a.need;
      above = ap (λ up. ancestor k l (outline fs) i 0 ∷ up) a.above;
      role = ap (λ r. role_at r k l (finished_fields fs) i) a.role;
      scope = there.scope;
      parameters = there.parameters;
    }

place-in-body : (used : Text → Bool) (p q : Place) → PlacesAlike used p q → (vs ls : List Tree) (e : Tree) → PlacesAlike used (names_in_body p vs ls e) (names_in_body q vs ls e)
place-in-body used p q a [] [] e = record { scope = a.scope; parameters = λ y u. refl }
place-in-body used p q a [] (d ∷ ls) e = place-inwards used p q a FunctionBody (made [] []) reads (body_fields [] (d ∷ ls) e) 1
place-in-body used p q a (v ∷ vs) ls e = place-inwards used p q a FunctionBody (made [] []) reads (body_fields (v ∷ vs) ls e) 1

pub alike-in-body : (used : Text → Bool) (n m : Site) → AreAlike used n m → (p : Pending) (e : Tree) → AreAlike used (site_in_body n p e) (site_in_body m p e)
alike-in-body used n m a p e =
    let there = place-in-body used n.names m.names (of-site a) p.vars p.lets e in
    record { need = a.need; above = a.above; role = refl; scope = there.scope; parameters = there.parameters }

pub law_inwards_proof : LawInwards
law_inwards_proof used n m a = record { in_field = alike-in used n m a; in_body = alike-in-body used n m a }
