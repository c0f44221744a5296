-- Where parts of calls give way to names, what is declared stays: the frames of each node, the places in it, and how many scopes bind a symbol.
use Rattle.std.proofs.Common.{◌≡◌, ◌+◌, ◌∙◌, ℕ, zero, suc, refl, sym, [], ◌++◌}
use Rattle.std.specs.Prelude.{Bool, true, false, ◌&&◌, ◌||◌, map, if◌then◌else◌}
use Rattle.std.specs.List.{list_any}
use Rattle.es_tree.specs.Tree.{Tree, node, Label, Fields, Field, Trees}
use Rattle.es_tree.specs.Words.{Text}
use Rattle.es_tree.specs.declared.ast_type.AstType.{AstType}
use Rattle.es_tree.specs.declared.ast_type.AstType.TheVariants.{CallExpression, ClassDeclaration, ClassExpression, FunctionExpression, Identifier}
use Rattle.es_semantic.specs.Places.{is_inside}
use Rattle.es_semantic.specs.RolesOf.{reads, role_at}
use Rattle.es_semantic.specs.ScopesOf.{is_function}
use Rattle.es_semantic.specs.declared.place.Role.{Role}
use Rattle.es_resolution.specs.Declarations.{Bound, declared, declared_among, declared_by, declared_in, has_scope, is_var_scope, own_declared, reaches_out, symbol_of}
use Rattle.es_resolution.specs.Resolved.{Place, bound_by, class_frame, first_declared, frame, name_frame, no_name, own_of, parameters_in, place_in, var_frame, with_symbol, within, within_vars}
use Rattle.es_resolution.specs.Single.{binds, is_var_of, one_if, own_binds, scopes_among, scopes_by, scopes_in, scopes_with}
use Rattle.es_helper_calls.proofs.CalledTrees.{Calls, CallsAll, CallsBy, CallsHere, CallsIn}
use Rattle.es_helper_calls.proofs.CalledTrees.Calls.{becomes}
use Rattle.es_helper_calls.proofs.CalledTrees.CallsAll.{next, none}
use Rattle.es_helper_calls.proofs.CalledTrees.CallsBy.{at_many, at_none, at_one, at_statements}
use Rattle.es_helper_calls.proofs.CalledTrees.CallsHere.{calls, lists, passes, stays}
use Rattle.es_helper_calls.proofs.CalledTrees.CallsIn.{ends, goes}
use Rattle.es_helper_names.proofs.CalledRoles.{first-stays, own-stays, roles-here}
use Rattle.es_helper_names.proofs.PlainTrees.{Way}

-- WHAT IS DECLARED: nothing by what gave way to a name, and nothing by the name

module _ (T : Bound → Type 0) where
  mutual
    pub declares-same : (v : Bool) (r : Role) {t u : Tree} → Calls (Way T) t u → declared v r u ≡ declared v r t
    declares-same v r (becomes {k = k} {l = l} {gs = gs} h) = (λ i. own_declared v r k l ++ declared_in v (reaches_out v k) (roles-here (Way T) r h i) gs) ∙ (λ i. own_declared v r k l ++ declares-same-here v (reaches_out v k) r h i)

    declares-same-here : (v : Bool) (counts : ℕ → Bool) (r : Role) {k : AstType} {l : Label} {fs gs : Fields} → CallsHere (Way T) k l fs gs → declared_in v counts (role_at r k l fs) gs ≡ declared_in v counts (role_at r k l fs) fs
    declares-same-here v counts r (stays {k = k} {l = l} {fs = fs} h) = declares-same-in v counts (role_at r k l fs) h
    declares-same-here v counts r (calls {l = l} {fs = fs} b p mark it h) = λ i. (if counts zero then sym (p.0.declares v) i else []) ++ declares-same-in v (λ j. counts (suc j)) (λ j. role_at r CallExpression l fs (suc j)) h i
    declares-same-here v counts r (passes {l = l} {fs = fs} b p mark other it k h) =
        λ i. (if counts zero then declares-same v reads k i else []) ++ ((if counts 1 then sym (p.0.declares v) i ++ [] else []) ++ declares-same-in v (λ j. counts (suc (suc j))) (λ j. role_at r CallExpression l fs (suc (suc j))) h i)
    declares-same-here v counts r (lists b p texts k m) = λ i. (if counts zero then declares-same v reads k i else []) ++ ((if counts 1 then declares-same v reads m i ++ (sym (p.0.declares v) i ++ []) else []) ++ [])

    declares-same-in : (v : Bool) (counts : ℕ → Bool) (roles : ℕ → Role) {fs gs : Fields} → CallsIn (Way T) fs gs → declared_in v counts roles gs ≡ declared_in v counts roles fs
    declares-same-in v counts roles ends = refl
    declares-same-in v counts roles (goes k h) = λ i. (if counts zero then declares-same-by v (roles zero) k i else []) ++ declares-same-in v (λ j. counts (suc j)) (λ j. roles (suc j)) h i

    declares-same-by : (v : Bool) (r : Role) {f g : Field} → CallsBy (Way T) f g → declared_by v r g ≡ declared_by v r f
    declares-same-by v r at_none = refl
    declares-same-by v r (at_one h) = declares-same v r h
    declares-same-by v r (at_many h) = declares-same-all v r h
    declares-same-by v r (at_statements h) = declares-same-all v r h

    declares-same-all : (v : Bool) (r : Role) {ts us : Trees} → CallsAll (Way T) ts us → declared_among v r us ≡ declared_among v r ts
    declares-same-all v r none = refl
    declares-same-all v r (next k h) = λ i. declares-same v r k i ++ declares-same-all v r h i

-- A NODE whose own fields are so: its frames, and the places in it

record FieldsAlike (r : Role) (k : AstType) (l : Label) (fs gs : Fields) : Type 0 where
  roles : role_at r k l gs ≡ role_at r k l fs
  first : first_declared (role_at r k l fs) gs ≡ first_declared (role_at r k l fs) fs
  inside : (v : Bool) (counts : ℕ → Bool) → declared_in v counts (role_at r k l fs) gs ≡ declared_in v counts (role_at r k l fs) fs

-- what reads declares nothing by itself
own-reads : (t : Tree) → own_of reads t ≡ []
own-reads (node Identifier l fs) = refl
own-reads (node _ l fs) = refl

first-here : (T : Bound → Type 0) (r : Role) {k : AstType} {l : Label} {fs gs : Fields} → CallsHere (Way T) k l fs gs → first_declared (role_at r k l fs) gs ≡ first_declared (role_at r k l fs) fs
first-here T r (stays {k = k} {l = l} {fs = fs} h) = first-stays (Way T) (role_at r k l fs) h
first-here T r (calls {f = f} b p mark it h) = sym (own-reads f)
first-here T r (passes b p mark other it k h) = own-stays (Way T) reads k
first-here T r (lists b p texts k m) = own-stays (Way T) reads k

fields-alike : (T : Bound → Type 0) (r : Role) (k : AstType) (l : Label) {fs gs : Fields} → CallsHere (Way T) k l fs gs → FieldsAlike r k l fs gs
fields-alike T r k l h = record { roles = roles-here (Way T) r h; first = first-here T r h; inside = λ v counts. declares-same-here T v counts r h }

module _ (k : AstType) (l : Label) (roles : ℕ → Role) (fs gs : Fields) (first : first_declared roles gs ≡ first_declared roles fs) (inside : (v : Bool) (counts : ℕ → Bool) → declared_in v counts roles gs ≡ declared_in v counts roles fs) where
  name-frames : name_frame k roles gs ≡ name_frame k roles fs
  name-frames = by k
    where
      by : (j : AstType) → name_frame j roles gs ≡ name_frame j roles fs
      by FunctionExpression = first
      by _ = refl

  class-frames : class_frame k l roles gs ≡ class_frame k l roles fs
  class-frames = by k
    where
      by : (j : AstType) → class_frame j l roles gs ≡ class_frame j l roles fs
      by ClassDeclaration = λ i. map (with_symbol (symbol_of l)) (first i)
      by ClassExpression = λ i. map (with_symbol (symbol_of l)) (first i)
      by _ = refl

  frames : frame k l roles gs ≡ frame k l roles fs
  frames = λ i. class-frames i ++ inside false (is_inside k) i

  var-frames : var_frame roles gs ≡ var_frame roles fs
  var-frames = inside true (λ i. true)

  places-by : (p : Place) → place_in p k l roles gs ≡ place_in p k l roles fs
  places-by p = λ j i. record {
    scope = if has_scope k && is_inside k i then within (frames j) (vars j) else outer j;
    hoist = if is_var_scope k then (λ x. if p.parameters x then outer j x else within (frames j) (vars j) x) else p.hoist;
    parameters = if is_function k then bound_by (frames j) else no_name;
  }
    where
      outer : within (name_frame k roles gs) p.scope ≡ within (name_frame k roles fs) p.scope
      outer = λ j. within (name-frames j) p.scope

      vars : (if is_var_scope k then within_vars p.parameters (var_frame roles gs) (within (name_frame k roles gs) p.scope) else within (name_frame k roles gs) p.scope) ≡ (if is_var_scope k then within_vars p.parameters (var_frame roles fs) (within (name_frame k roles fs) p.scope) else within (name_frame k roles fs) p.scope)
      vars = λ j. if is_var_scope k then within_vars p.parameters (var-frames j) (outer j) else outer j

  parameters-by : parameters_in k l roles gs ≡ parameters_in k l roles fs
  parameters-by = λ j. if is_function k then bound_by (frames j) else no_name

  names-by : (s : ℕ) → one_if (binds s (name_frame k roles gs)) ≡ one_if (binds s (name_frame k roles fs))
  names-by s = λ j. one_if (binds s (name-frames j))

  binds-by : (s : ℕ) (ps : Text → Bool) → own_binds s ps k l roles gs ≡ own_binds s ps k l roles fs
  binds-by s ps = λ j. if has_scope k then binds s (frames j) || (if is_var_scope k then list_any (is_var_of s ps) (var-frames j) else false) else false

module _ (T : Bound → Type 0) (r : Role) (k : AstType) (l : Label) (fs gs : Fields) (h : CallsHere (Way T) k l fs gs) where
  abbrev alike : FieldsAlike r k l fs gs
  alike = fields-alike T r k l h

  pub class-alike : class_frame k l (role_at r k l gs) gs ≡ class_frame k l (role_at r k l fs) fs
  class-alike = (λ j. class_frame k l (alike.roles j) gs) ∙ class-frames k l (role_at r k l fs) fs gs alike.first alike.inside

  pub places-alike : (p : Place) → place_in p k l (role_at r k l gs) gs ≡ place_in p k l (role_at r k l fs) fs
  places-alike p = (λ j. place_in p k l (alike.roles j) gs) ∙ places-by k l (role_at r k l fs) fs gs alike.first alike.inside p

-- HOW MANY SCOPES bind a symbol

abbrev scopes_of : ℕ → (Text → Bool) → AstType → Label → (ℕ → Role) → Fields → ℕ
scopes_of s ps k l roles fs = one_if (binds s (name_frame k roles fs)) + one_if (own_binds s ps k l roles fs) + scopes_in s (parameters_in k l roles fs) roles fs

node-scopes : (s : ℕ) (ps : Text → Bool) (r : Role) (k : AstType) (l : Label) (fs gs : Fields) → FieldsAlike r k l fs gs → ((qs : Text → Bool) → scopes_in s qs (role_at r k l fs) gs ≡ scopes_in s qs (role_at r k l fs) fs) → scopes_of s ps k l (role_at r k l gs) gs ≡ scopes_of s ps k l (role_at r k l fs) fs
node-scopes s ps r k l fs gs a later = (λ j. scopes_of s ps k l (a.roles j) gs) ∙ (λ j. names-by k l roles fs gs a.first a.inside s j + own j + inner j)
  where
    roles : ℕ → Role
    roles = role_at r k l fs

    own : one_if (own_binds s ps k l roles gs) ≡ one_if (own_binds s ps k l roles fs)
    own = λ j. one_if (binds-by k l roles fs gs a.first a.inside s ps j)

    inner : scopes_in s (parameters_in k l roles gs) roles gs ≡ scopes_in s (parameters_in k l roles fs) roles fs
    inner = (λ j. scopes_in s (parameters-by k l roles fs gs a.first a.inside j) roles gs) ∙ later (parameters_in k l roles fs)

module _ (T : Bound → Type 0) (s : ℕ) where
  mutual
    pub scopes-same : (ps : Text → Bool) (r : Role) {t u : Tree} → Calls (Way T) t u → scopes_with s ps r u ≡ scopes_with s ps r t
    scopes-same ps r (becomes {k = k} {l = l} {fs = fs} {gs = gs} h) = node-scopes s ps r k l fs gs (fields-alike T r k l h) (λ qs. scopes-same-here qs r h)

    scopes-same-here : (ps : Text → Bool) (r : Role) {k : AstType} {l : Label} {fs gs : Fields} → CallsHere (Way T) k l fs gs → scopes_in s ps (role_at r k l fs) gs ≡ scopes_in s ps (role_at r k l fs) fs
    scopes-same-here ps r (stays {k = k} {l = l} {fs = fs} h) = scopes-same-in ps (role_at r k l fs) h
    scopes-same-here ps r (calls {l = l} {fs = fs} b p mark it h) = λ j. sym (p.0.scopes s ps) j + scopes-same-in ps (λ i. role_at r CallExpression l fs (suc i)) h j
    scopes-same-here ps r (passes {l = l} {fs = fs} b p mark other it k h) = λ j. scopes-same ps reads k j + ((sym (p.0.scopes s ps) j + 0) + scopes-same-in ps (λ i. role_at r CallExpression l fs (suc (suc i))) h j)
    scopes-same-here ps r (lists b p texts k m) = λ j. scopes-same ps reads k j + ((scopes-same ps reads m j + (sym (p.0.scopes s ps) j + 0)) + 0)

    scopes-same-in : (ps : Text → Bool) (roles : ℕ → Role) {fs gs : Fields} → CallsIn (Way T) fs gs → scopes_in s ps roles gs ≡ scopes_in s ps roles fs
    scopes-same-in ps roles ends = refl
    scopes-same-in ps roles (goes k h) = λ j. scopes-same-by ps (roles zero) k j + scopes-same-in ps (λ i. roles (suc i)) h j

    scopes-same-by : (ps : Text → Bool) (r : Role) {f g : Field} → CallsBy (Way T) f g → scopes_by s ps r g ≡ scopes_by s ps r f
    scopes-same-by ps r at_none = refl
    scopes-same-by ps r (at_one h) = scopes-same ps r h
    scopes-same-by ps r (at_many h) = scopes-same-all ps r h
    scopes-same-by ps r (at_statements h) = scopes-same-all ps r h

    scopes-same-all : (ps : Text → Bool) (r : Role) {ts us : Trees} → CallsAll (Way T) ts us → scopes_among s ps r us ≡ scopes_among s ps r ts
    scopes-same-all ps r none = refl
    scopes-same-all ps r (next k h) = λ j. scopes-same ps r k j + scopes-same-all ps r h j
