-- Trees that become others of which each declares the same around it, and has the same name: the sites of all others stay.
use Rattle.std.proofs.Common.{◌≡◌, ◌∙◌, ℕ, zero, suc, refl, sym, ap, List, [], ◌∷◌, ◌++◌}
use Rattle.std.specs.Prelude.{Bool, true, false, ◌&&◌, Option, is_some, map, if◌then◌else◌}
use Rattle.es_tree.specs.Ancestors.{ancestor}
use Rattle.es_tree.specs.Children.{child_at}
use Rattle.es_tree.specs.Tree.{Tree, node, Label, Fields, ◌then◌, Field, missing, one, many, statements, Trees, ◌before◌, kind_of}
use Rattle.es_tree.specs.Words.{Text}
use Rattle.es_tree.specs.declared.ast_type.AstType.{AstType}
use Rattle.es_tree.specs.declared.ast_type.AstType.TheVariants.{ClassDeclaration, ClassExpression, FunctionExpression}
use Rattle.es_runs.specs.Alike.{needs}
use Rattle.es_semantic.specs.Places.{is_inside}
use Rattle.es_semantic.specs.RolesOf.{role_at}
use Rattle.es_semantic.specs.ScopesOf.{is_function}
use Rattle.es_semantic.specs.declared.place.Role.{Role}
use Rattle.es_resolution.specs.Declarations.{Bound, declared, declared_among, declared_by, declared_in, has_scope, is_var_scope, own_declared, reaches_out, symbol_of}
use Rattle.es_resolution.specs.Resolved.{Place, bound_by, class_frame, first_declared, name_frame, no_name, own_by, own_of, place_in, with_symbol, within, within_vars}
use Rattle.es_resolution.proofs.Roles.{role-same}
use Rattle.es_steps.specs.Nodes.{word}
use Rattle.es_steps.specs.Open.{OpenField, OpenFields, body, child, children, gap, is_body, is_import, list, is_statement_body, nothing_pending, opened, opened_field, opened_fields, ◌and◌}
use Rattle.es_steps.specs.Steps.{Site, outline}
use Rattle.es_steps.proofs.Opened.{finished-fields}
use Rattle.es_pattern_moves.proofs.MovedInward.{sites}
use Rattle.es_pattern_moves.proofs.MovedRows.{same-body}

pub record SameTree (t u : Tree) : Type 0 where
  pub declares : (v : Bool) (r : Role) → declared v r u ≡ declared v r t
  pub named : (r : Role) → own_of r u ≡ own_of r t
  pub scope : is_var_scope (kind_of u) ≡ is_var_scope (kind_of t)
  pub imports : is_import u ≡ is_import t
  pub bodied : is_statement_body u ≡ is_statement_body t

pub record SameTrees (ts us : Trees) : Type 0 where
  pub declares : (v : Bool) (r : Role) → declared_among v r us ≡ declared_among v r ts

pub record SameField (f g : Field) : Type 0 where
  pub declares : (v : Bool) (r : Role) → declared_by v r g ≡ declared_by v r f
  pub named : (r : Role) → own_by r g ≡ own_by r f
  pub outlined : (b : Bool) (fs : OpenFields) → outline (opened_field b g and fs) ≡ outline (opened_field b f and fs)
  pub child : (fs : Fields) → is_some (child_at 0 (g then fs)) ≡ is_some (child_at 0 (f then fs))

pub record SameFields (fs gs : Fields) : Type 0 where
  pub declares : (v : Bool) (counts : ℕ → Bool) (roles : ℕ → Role) → declared_in v counts roles gs ≡ declared_in v counts roles fs
  pub named : (roles : ℕ → Role) → first_declared roles gs ≡ first_declared roles fs
  pub outlined : (bodies : ℕ → Bool) → outline (opened_fields bodies gs) ≡ outline (opened_fields bodies fs)
  pub children : (i : ℕ) → is_some (child_at i gs) ≡ is_some (child_at i fs)

-- ONE AFTER THE OTHER

pub fields-same : (fs : Fields) → SameFields fs fs
fields-same fs = record { declares = λ v counts roles. refl; named = λ roles. refl; outlined = λ bodies. refl; children = λ i. refl }

pub fields-then : (fs gs hs : Fields) → SameFields fs gs → SameFields gs hs → SameFields fs hs
fields-then fs gs hs a b = record {
  declares = λ v counts roles. b.declares v counts roles ∙ a.declares v counts roles;
  named = λ roles. b.named roles ∙ a.named roles;
  outlined = λ bodies. b.outlined bodies ∙ a.outlined bodies;
  children = λ i. b.children i ∙ a.children i;
}

-- LISTS

pub head-same : (t u : Tree) (ts : Trees) → SameTree t u → SameTrees (t before ts) (u before ts)
head-same t u ts h = record { declares = λ v r. ap (λ bs. bs ++ declared_among v r ts) (h.declares v r) }

pub tail-same : (t : Tree) (ts us : Trees) → SameTrees ts us → SameTrees (t before ts) (t before us)
tail-same t ts us h = record { declares = λ v r. ap (λ bs. declared v r t ++ bs) (h.declares v r) }

-- FIELDS

one-outlined : (t u : Tree) (b : Bool) (fs : OpenFields) → outline (opened_field b (one u) and fs) ≡ outline (opened_field b (one t) and fs)
one-outlined t u true fs = body-outlined u ∙ sym (body-outlined t)
  where
    body-outlined : (t : Tree) → outline (opened_field true (one t) and fs) ≡ (one (word []) then outline fs)
    body-outlined t = at (is_statement_body t)
      where
        at : (b : Bool) → outline ((if b then child (opened t) else body nothing_pending (opened t)) and fs) ≡ (one (word []) then outline fs)
        at true = refl
        at false = refl
one-outlined t u false fs = refl

many-outlined : (ts us : Trees) (b : Bool) (fs : OpenFields) → outline (opened_field b (many us) and fs) ≡ outline (opened_field b (many ts) and fs)
many-outlined ts us true fs = refl
many-outlined ts us false fs = refl

list-outlined : (ts us : Trees) (b : Bool) (fs : OpenFields) → outline (opened_field b (statements us) and fs) ≡ outline (opened_field b (statements ts) and fs)
list-outlined ts us true fs = refl
list-outlined ts us false fs = refl

pub missing-same : SameField missing missing
missing-same = record { declares = λ v r. refl; named = λ r. refl; outlined = λ b fs. refl; child = λ fs. refl }

pub one-same : (t u : Tree) → SameTree t u → SameField (one t) (one u)
one-same t u h = record { declares = h.declares; named = h.named; outlined = one-outlined t u; child = λ fs. refl }

pub many-same : (ts us : Trees) → SameTrees ts us → SameField (many ts) (many us)
many-same ts us h = record { declares = h.declares; named = λ r. refl; outlined = many-outlined ts us; child = λ fs. refl }

pub statements-same : (ts us : Trees) → SameTrees ts us → SameField (statements ts) (statements us)
statements-same ts us h = record { declares = h.declares; named = λ r. refl; outlined = list-outlined ts us; child = λ fs. refl }

first-children : (f g : Field) (fs : Fields) → SameField f g → (i : ℕ) → is_some (child_at i (g then fs)) ≡ is_some (child_at i (f then fs))
first-children f g fs h zero = h.child fs
first-children f g fs h (suc i) = refl

pub first-same : (f g : Field) (fs : Fields) → SameField f g → SameFields (f then fs) (g then fs)
first-same f g fs h = record {
  declares = λ v counts roles. ap (λ bs. (if counts zero then bs else []) ++ declared_in v (λ i. counts (suc i)) (λ i. roles (suc i)) fs) (h.declares v (roles zero));
  named = λ roles. h.named (roles zero);
  outlined = λ bodies. h.outlined (bodies zero) (opened_fields (λ i. bodies (suc i)) fs);
  children = first-children f g fs h;
}

behind-outlined : (f : OpenField) (fs gs : OpenFields) → outline gs ≡ outline fs → outline (f and gs) ≡ outline (f and fs)
behind-outlined gap fs gs e = ap (λ z. missing then z) e
behind-outlined (child t) fs gs e = ap (λ z. one (word []) then z) e
behind-outlined (body p t) fs gs e = ap (λ z. one (word []) then z) e
behind-outlined (children ts) fs gs e = ap (λ z. one (word []) then z) e
behind-outlined (list p x a ts) fs gs e = ap (λ z. one (word []) then z) e

later-children : (f : Field) (fs gs : Fields) → SameFields fs gs → (i : ℕ) → is_some (child_at i (f then gs)) ≡ is_some (child_at i (f then fs))
later-children missing fs gs h zero = refl
later-children (one t) fs gs h zero = refl
later-children (many ts) fs gs h zero = refl
later-children (statements ts) fs gs h zero = refl
later-children f fs gs h (suc i) = h.children i

pub later-same : (f : Field) (fs gs : Fields) → SameFields fs gs → SameFields (f then fs) (f then gs)
later-same f fs gs h = record {
  declares = λ v counts roles. ap (λ bs. (if counts zero then declared_by v (roles zero) f else []) ++ bs) (h.declares v (λ i. counts (suc i)) (λ i. roles (suc i)));
  named = λ roles. refl;
  outlined = λ bodies. behind-outlined (opened_field (bodies zero) f) (opened_fields (λ i. bodies (suc i)) fs) (opened_fields (λ i. bodies (suc i)) gs) (h.outlined (λ i. bodies (suc i)));
  children = later-children f fs gs h;
}

-- A NODE with such fields

pub roles-same : (r : Role) (k : AstType) (l : Label) (fs gs : Fields) → SameFields fs gs → role_at r k l gs ≡ role_at r k l fs
roles-same r k l fs gs h = role-same r k l fs gs h.children

pub node-same : (k : AstType) (l : Label) (fs gs : Fields) → SameFields fs gs → SameTree (node k l fs) (node k l gs)
node-same k l fs gs h = record {
  declares = λ v r. ap (λ bs. own_declared v r k l ++ bs) ((λ j. declared_in v (reaches_out v k) (roles-same r k l fs gs h j) gs) ∙ h.declares v (reaches_out v k) (role_at r k l fs));
  named = λ r. refl;
  scope = refl;
  imports = refl;
  bodied = same-body k l l fs gs;
}

-- PLACES: what a place tells of the fields, by what they bind

name-same : (k : AstType) (roles : ℕ → Role) (fs gs : Fields) → SameFields fs gs → name_frame k roles gs ≡ name_frame k roles fs
name-same FunctionExpression roles fs gs h = h.named roles
name-same _ roles fs gs h = refl

class-same : (k : AstType) (l : Label) (roles : ℕ → Role) (fs gs : Fields) → SameFields fs gs → class_frame k l roles gs ≡ class_frame k l roles fs
class-same ClassDeclaration l roles fs gs h = ap (λ bs. map (with_symbol (symbol_of l)) bs) (h.named roles)
class-same ClassExpression l roles fs gs h = ap (λ bs. map (with_symbol (symbol_of l)) bs) (h.named roles)
class-same _ l roles fs gs h = refl

-- the place, by these frames
abbrev place_by : Place → AstType → List Bound → List Bound → List Bound → ℕ → Place
place_by p k names bs vs i =
    let around : Text → Option ℕ = within names p.scope in
    let inner : Text → Option ℕ = within bs (if is_var_scope k then within_vars p.parameters vs around else around) in
    record {
      scope = if has_scope k && is_inside k i then inner else around;
      hoist = if is_var_scope k then (λ x. if p.parameters x then around x else inner x) else p.hoist;
      parameters = if is_function k then bound_by bs else no_name;
    }

pub place-same : (p : Place) (k : AstType) (l : Label) (roles : ℕ → Role) (fs gs : Fields) → SameFields fs gs → (i : ℕ) → place_in p k l roles gs i ≡ place_in p k l roles fs i
place-same p k l roles fs gs h i = λ j. place_by p k (name-same k roles fs gs h j) (class-same k l roles fs gs h j ++ h.declares false (is_inside k) roles j) (h.declares true (λ m. true) roles j) i

-- SITES

abbrev site_by : Site → AstType → Label → Fields → Fields → ℕ → Site
site_by n k l o fs i = record {
  need = needs n.need k l.texts l.flags i;
  above = ancestor k l o i 0 ∷ n.above;
  role = role_at n.role k l fs i;
  names = place_in n.names k l (role_at n.role k l fs) fs i;
}

-- the site of a field of a node with nothing pending
pub sites-are : (n : Site) (k : AstType) (l : Label) (fs : Fields) (i : ℕ) → sites n k l fs i ≡ site_by n k l (outline (opened_fields (is_body k) fs)) fs i
sites-are n k l fs i = λ j. site_by n k l (outline (opened_fields (is_body k) fs)) (finished-fields (is_body k) fs j) i

pub sites-same : (n : Site) (k : AstType) (l : Label) (fs gs : Fields) → SameFields fs gs → (i : ℕ) → sites n k l gs i ≡ sites n k l fs i
sites-same n k l fs gs h i =
    let there : site_by n k l (outline (opened_fields (is_body k) gs)) gs i ≡ site_by n k l (outline (opened_fields (is_body k) fs)) fs i =
    (λ j. record {
      need = needs n.need k l.texts l.flags i;
      above = ancestor k l (h.outlined (is_body k) j) i 0 ∷ n.above;
      role = roles-same n.role k l fs gs h j i;
      names = ((λ j. place_in n.names k l (roles-same n.role k l fs gs h j) gs i) ∙ place-same n.names k l (role_at n.role k l fs) fs gs h i) j;
    })
    in sites-are n k l gs i ∙ there ∙ sym (sites-are n k l fs i)
