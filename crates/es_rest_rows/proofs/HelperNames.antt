-- Trees in which no `babelHelpers` is bound: each name with a symbol is another, so that looking that name up finds nothing.
use Rattle.std.proofs.Common.{◌≡◌, ℕ, zero, suc, refl, sym, ◌∙◌, List, [], ◌∷◌, ◌++◌}
use Rattle.std.proofs.lemmas.Bool.{not-true, not_from_false, or_parts}
use Rattle.std.specs.Prelude.{Bool, true, false, not, ◌&&◌, Option, Some, None, bytes_eq, codes, is_some, map, if◌then◌else◌}
use Rattle.es_tree.specs.Names.{first_text}
use Rattle.es_tree.specs.Scopes.{name_in}
use Rattle.es_tree.specs.Tree.{Tree, node, Label, Fields, done, ◌then◌, Field, missing, one, many, statements, Trees, empty, ◌before◌}
use Rattle.es_tree.specs.Walks.{any_in_field, any_in_fields, any_in_trees, any_node}
use Rattle.es_tree.specs.Words.{Text}
use Rattle.es_tree.specs.declared.ast_type.AstType.{AstType}
use Rattle.es_tree.specs.declared.ast_type.AstType.TheVariants.{ClassDeclaration, ClassExpression, FunctionExpression, Identifier}
use Rattle.es_runs.proofs.Named.{or_both}
use Rattle.es_semantic.specs.Places.{is_inside}
use Rattle.es_semantic.specs.RolesOf.{role_at}
use Rattle.es_semantic.specs.declared.place.Role.{Role}
use Rattle.es_semantic.specs.declared.place.Role.TheVariants.{Binds}
use Rattle.es_resolution.specs.Declarations.{Bound, declared, declared_among, declared_by, declared_in, has_scope, is_asked, is_var_scope, own_declared, own_name, reaches_out, sought, symbol_of}
use Rattle.es_resolution.specs.Resolved.{Place, around, class_frame, first_declared, frame, inner, name_frame, or_around, place_in, var_frame, vars_in, with_symbol, within, within_vars}
use Rattle.es_resolution.proofs.Basics.{Each, every}
use Rattle.es_resolution.proofs.Marks.{each-append}
use Rattle.es_steps.specs.Identifiers.{OwnPasses, Passes, PassesAll, PassesBy, PassesIn, any_name}
use Rattle.es_rest_rows.specs.Laws.{is_bound_helper, is_helper_binding}

abbrev pub helpers_name : Text
helpers_name = codes "babelHelpers"

-- a name that isn't `babelHelpers` with a symbol
abbrev pub is_other_name : Text → Option ℕ → Bool
is_other_name x s = not (is_helper_binding x s)

-- THE TEST OF NODES, and that of names

own-unbound : (k : AstType) (l : Label) (fs : Fields) → OwnPasses is_other_name k l fs → is_bound_helper k l fs ≡ false
own-unbound Identifier l fs h = not-true (is_helper_binding (first_text l.texts) (symbol_of l)) h
own-unbound ClassDeclaration l fs h = not-true (is_helper_binding (name_in fs) (symbol_of l)) h.1
own-unbound ClassExpression l fs h = not-true (is_helper_binding (name_in fs) (symbol_of l)) h.1
own-unbound _ l fs h = refl

own-other : (k : AstType) (l : Label) (fs : Fields) → OwnPasses any_name k l fs → is_bound_helper k l fs ≡ false → OwnPasses is_other_name k l fs
own-other Identifier l fs h e = not_from_false (is_helper_binding (first_text l.texts) (symbol_of l)) e
own-other ClassDeclaration l fs h e = (h.0, not_from_false (is_helper_binding (name_in fs) (symbol_of l)) e)
own-other ClassExpression l fs h e = (h.0, not_from_false (is_helper_binding (name_in fs) (symbol_of l)) e)
own-other _ l fs h e = tt

mutual
  pub passes-unbound : (t : Tree) → Passes is_other_name t → any_node is_bound_helper t ≡ false
  passes-unbound (node k l fs) h = or_both (is_bound_helper k l fs) (any_in_fields is_bound_helper fs) (own-unbound k l fs h.0) (passes-unbound-in fs h.1)

  passes-unbound-in : (fs : Fields) → PassesIn is_other_name fs → any_in_fields is_bound_helper fs ≡ false
  passes-unbound-in done h = refl
  passes-unbound-in (f then fs) h = or_both (any_in_field is_bound_helper f) (any_in_fields is_bound_helper fs) (passes-unbound-by f h.0) (passes-unbound-in fs h.1)

  passes-unbound-by : (f : Field) → PassesBy is_other_name f → any_in_field is_bound_helper f ≡ false
  passes-unbound-by missing h = refl
  passes-unbound-by (one t) h = passes-unbound t h
  passes-unbound-by (many ts) h = passes-unbound-all ts h
  passes-unbound-by (statements ts) h = passes-unbound-all ts h

  passes-unbound-all : (ts : Trees) → PassesAll is_other_name ts → any_in_trees is_bound_helper ts ≡ false
  passes-unbound-all empty h = refl
  passes-unbound-all (t before ts) h = or_both (any_node is_bound_helper t) (any_in_trees is_bound_helper ts) (passes-unbound t h.0) (passes-unbound-all ts h.1)

-- where the names of classes are identifiers
mutual
  pub unbound-passes : (t : Tree) → Passes any_name t → any_node is_bound_helper t ≡ false → Passes is_other_name t
  unbound-passes (node k l fs) h e = let d = or_parts (is_bound_helper k l fs) (any_in_fields is_bound_helper fs) e in (own-other k l fs h.0 d.0, unbound-passes-in fs h.1 d.1)

  unbound-passes-in : (fs : Fields) → PassesIn any_name fs → any_in_fields is_bound_helper fs ≡ false → PassesIn is_other_name fs
  unbound-passes-in done h e = tt
  unbound-passes-in (f then fs) h e = let d = or_parts (any_in_field is_bound_helper f) (any_in_fields is_bound_helper fs) e in (unbound-passes-by f h.0 d.0, unbound-passes-in fs h.1 d.1)

  unbound-passes-by : (f : Field) → PassesBy any_name f → any_in_field is_bound_helper f ≡ false → PassesBy is_other_name f
  unbound-passes-by missing h e = tt
  unbound-passes-by (one t) h e = unbound-passes t h e
  unbound-passes-by (many ts) h e = unbound-passes-all ts h e
  unbound-passes-by (statements ts) h e = unbound-passes-all ts h e

  unbound-passes-all : (ts : Trees) → PassesAll any_name ts → any_in_trees is_bound_helper ts ≡ false → PassesAll is_other_name ts
  unbound-passes-all empty h e = tt
  unbound-passes-all (t before ts) h e = let d = or_parts (any_node is_bound_helper t) (any_in_trees is_bound_helper ts) e in (unbound-passes t h.0 d.0, unbound-passes-all ts h.1 d.1)

-- WHAT IS DECLARED

abbrev AllOther : List Bound → Type 0
AllOther bs = Each (λ b. is_other_name b.name b.symbol ≡ true) bs

other-both : (bs cs : List Bound) → AllOther bs → AllOther cs → AllOther (bs ++ cs)
other-both bs cs h k = each-append (λ b. is_other_name b.name b.symbol ≡ true) bs cs h k

other-if : (v : Bool) (bs : List Bound) → AllOther bs → AllOther (if v then bs else [])
other-if true bs h = h
other-if false bs h = tt

own-declares : (v : Bool) (r : Role) (k : AstType) (l : Label) (fs : Fields) → OwnPasses is_other_name k l fs → AllOther (own_declared v r k l)
own-declares v r Identifier l fs h = other-if (is_asked v r) (record { name = first_text l.texts; symbol = symbol_of l } ∷ []) (h, tt)
own-declares v r _ l fs h = tt

mutual
  declares-other : (v : Bool) (r : Role) (t : Tree) → Passes is_other_name t → AllOther (declared v r t)
  declares-other v r (node k l fs) h = other-both (own_declared v r k l) (declared_in v (reaches_out v k) (role_at r k l fs) fs) (own-declares v r k l fs h.0) (declares-other-in v (reaches_out v k) (role_at r k l fs) fs h.1)

  declares-other-in : (v : Bool) (counts : ℕ → Bool) (roles : ℕ → Role) (fs : Fields) → PassesIn is_other_name fs → AllOther (declared_in v counts roles fs)
  declares-other-in v counts roles done h = tt
  declares-other-in v counts roles (f then fs) h = other-both (if counts zero then declared_by v (roles zero) f else []) (declared_in v (λ i. counts (suc i)) (λ i. roles (suc i)) fs) (other-if (counts zero) (declared_by v (roles zero) f) (declares-other-by v (roles zero) f h.0)) (declares-other-in v (λ i. counts (suc i)) (λ i. roles (suc i)) fs h.1)

  declares-other-by : (v : Bool) (r : Role) (f : Field) → PassesBy is_other_name f → AllOther (declared_by v r f)
  declares-other-by v r missing h = tt
  declares-other-by v r (one t) h = declares-other v r t h
  declares-other-by v r (many ts) h = declares-other-all v r ts h
  declares-other-by v r (statements ts) h = declares-other-all v r ts h

  declares-other-all : (v : Bool) (r : Role) (ts : Trees) → PassesAll is_other_name ts → AllOther (declared_among v r ts)
  declares-other-all v r empty h = tt
  declares-other-all v r (t before ts) h = other-both (declared v r t) (declared_among v r ts) (declares-other v r t h.0) (declares-other-all v r ts h.1)

-- the name of a function, and that of a class inside it

own-name-other : (r : Role) (k : AstType) (l : Label) (fs : Fields) → OwnPasses is_other_name k l fs → AllOther (own_name k r l)
own-name-other (Binds b) Identifier l fs h = (h, tt)
own-name-other _ Identifier l fs h = tt
own-name-other r _ l fs h = tt

first-other : (roles : ℕ → Role) (fs : Fields) → PassesIn is_other_name fs → AllOther (first_declared roles fs)
first-other roles done h = tt
first-other roles (missing then fs) h = tt
first-other roles (one (node k l gs) then fs) h = own-name-other (roles zero) k l gs h.0.0
first-other roles (many ts then fs) h = tt
first-other roles (statements ts then fs) h = tt

name-other : (k : AstType) (roles : ℕ → Role) (fs : Fields) → PassesIn is_other_name fs → AllOther (name_frame k roles fs)
name-other FunctionExpression roles fs h = first-other roles fs h
name-other _ roles fs h = tt

inside-other : (s : Option ℕ) (r : Role) (k : AstType) (l : Label) → is_other_name (first_text l.texts) s ≡ true → AllOther (map (with_symbol s) (own_name k r l))
inside-other s (Binds b) Identifier l h = (h, tt)
inside-other s _ Identifier l h = tt
inside-other s r _ l h = tt

class-first : (s : Option ℕ) (roles : ℕ → Role) (fs : Fields) → is_other_name (name_in fs) s ≡ true → AllOther (map (with_symbol s) (first_declared roles fs))
class-first s roles done h = tt
class-first s roles (missing then fs) h = tt
class-first s roles (one (node k l gs) then fs) h = inside-other s (roles zero) k l h
class-first s roles (many ts then fs) h = tt
class-first s roles (statements ts then fs) h = tt

class-other : (k : AstType) (l : Label) (roles : ℕ → Role) (fs : Fields) → OwnPasses is_other_name k l fs → AllOther (class_frame k l roles fs)
class-other ClassDeclaration l roles fs h = class-first (symbol_of l) roles fs h.1
class-other ClassExpression l roles fs h = class-first (symbol_of l) roles fs h.1
class-other _ l roles fs h = tt

-- LOOK-UP

abbrev pub FindsNone : Place → Type 0
FindsNone p = p.scope helpers_name ≡ None

other-none : (c : Bool) (s : Option ℕ) → c ≡ true → not (c && is_some s) ≡ true → s ≡ None
other-none c None e h = refl
other-none true (Some m) e h = absurd (cc h)
other-none false (Some m) e h = absurd (cc e)

some-same : (s u : Option ℕ) → ◌≡◌ {A = Option (Option ℕ)} (Some s) (Some u) → s ≡ u
some-same s u e = cc e

sought-none : (bs : List Bound) → AllOther bs → (s : Option ℕ) → sought bs helpers_name ≡ Some s → s ≡ None
sought-none [] h s e = absurd (cc e)
sought-none (c ∷ bs) h s e = at (bytes_eq c.name helpers_name) refl e (sought-none bs h.1 s)
  where
    at : (v : Bool) → bytes_eq c.name helpers_name ≡ v → (if v then Some c.symbol else sought bs helpers_name) ≡ Some s → (sought bs helpers_name ≡ Some s → s ≡ None) → s ≡ None
    at true d f rest = sym (some-same c.symbol s f) ∙ other-none (bytes_eq c.name helpers_name) c.symbol d h.0
    at false d f rest = rest f

within-none : (bs : List Bound) → AllOther bs → (f : Option ℕ) → f ≡ None → or_around (sought bs helpers_name) f ≡ None
within-none bs h f e = at (sought bs helpers_name) refl
  where
    at : (a : Option (Option ℕ)) → sought bs helpers_name ≡ a → or_around a f ≡ None
    at None d = e
    at (Some s) d = sought-none bs h s d

-- where the name finds nothing around a node, it finds nothing in each field
pub place-none : (p : Place) (r : Role) (k : AstType) (l : Label) (fs : Fields) → Passes is_other_name (node k l fs) → FindsNone p → (i : ℕ) → FindsNone (place_in p k l (role_at r k l fs) fs i)
place-none p r k l fs h e i = at (has_scope k && is_inside k i)
  where
    roles : ℕ → Role
    roles = role_at r k l fs

    around-none : around p k roles fs helpers_name ≡ None
    around-none = within-none (name_frame k roles fs) (name-other k roles fs h.1) (p.scope helpers_name) e

    vars-none : vars_in p k roles fs helpers_name ≡ None
    vars-none = when (is_var_scope k)
      where
        by : (v : Bool) → (if v then around p k roles fs helpers_name else within (var_frame roles fs) (around p k roles fs) helpers_name) ≡ None
        by true = around-none
        by false = within-none (var_frame roles fs) (declares-other-in true every roles fs h.1) (around p k roles fs helpers_name) around-none

        when : (v : Bool) → (if v then within_vars p.parameters (var_frame roles fs) (around p k roles fs) else around p k roles fs) helpers_name ≡ None
        when true = by (p.parameters helpers_name)
        when false = around-none

    frame-other : AllOther (frame k l roles fs)
    frame-other = other-both (class_frame k l roles fs) (declared_in false (is_inside k) roles fs) (class-other k l roles fs h.0) (declares-other-in false (is_inside k) roles fs h.1)

    at : (v : Bool) → (if v then inner p k l roles fs else around p k roles fs) helpers_name ≡ None
    at true = within-none (frame k l roles fs) frame-other (vars_in p k roles fs helpers_name) vars-none
    at false = around-none
