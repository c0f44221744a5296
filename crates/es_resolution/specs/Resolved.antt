-- Resolved programs: each name stands for the binding that looking it up outwards finds (ECMA-262, 9.1.2.1).
use Rattle.std.specs.Prelude.{◌≡◌, ℕ, zero, suc, List, [], ◌++◌, map, Bool, true, false, ◌&&◌, Option, Some, None, is_some, if◌then◌else◌}
use Rattle.std.specs.List.{list_all}
use Rattle.es_tree.specs.Words.{Text}
use Rattle.es_tree.specs.Names.{first_text}
use Rattle.es_tree.specs.Tree.{Tree, node, Label, Fields, done, ◌then◌, Field, missing, one, many, statements, Trees, empty, ◌before◌}
use Rattle.es_tree.specs.declared.ast_type.AstType.{AstType}
use Rattle.es_tree.specs.declared.ast_type.AstType.TheVariants.{Identifier, FunctionExpression, ClassDeclaration, ClassExpression}
use Rattle.es_semantic.specs.RolesOf.{reads, role_at}
use Rattle.es_semantic.specs.Places.{is_inside}
use Rattle.es_semantic.specs.ScopesOf.{is_function}
use Rattle.es_semantic.specs.SymbolsOf.{hoists}
use Rattle.es_semantic.specs.declared.place.Role.{Role}
use Rattle.es_semantic.specs.declared.place.Role.TheVariants.{Nothing, Binds}
use Rattle.es_resolution.specs.Declarations.{Bound, symbol_of, sought, has_scope, is_var_scope, own_name, declared_in}

-- FRAMES: what the scopes of a node bind, where its fields have these roles

-- what a tree declares by itself, without its fields
abbrev pub own_of : Role → Tree → List Bound
own_of r (node k l fs) = own_name k r l

abbrev pub own_by : Role → Field → List Bound
own_by r (one t) = own_of r t
own_by r _ = []

-- the name that stands in the first field, which is the node's
abbrev pub first_declared : (ℕ → Role) → Fields → List Bound
first_declared roles done = []
first_declared roles (f then fs) = own_by (roles zero) f

-- the name of a function expression, in a scope of its own (15.2.5)
abbrev pub name_frame : AstType → (ℕ → Role) → Fields → List Bound
name_frame FunctionExpression roles fs = first_declared roles fs
name_frame _ roles fs = []

abbrev pub with_symbol : Option ℕ → Bound → Bound
with_symbol s b = record b { symbol = s }

-- the name of a class, inside it (15.7.14)
abbrev pub class_frame : AstType → Label → (ℕ → Role) → Fields → List Bound
class_frame ClassDeclaration l roles fs = map (with_symbol (symbol_of l)) (first_declared roles fs)
class_frame ClassExpression l roles fs = map (with_symbol (symbol_of l)) (first_declared roles fs)
class_frame _ l roles fs = []

-- all but `var`: parameters (10.2.11), `let`, `const`, functions and classes of blocks, loops, `switch` and bodies (14.2.3,
-- 14.7.4, 14.7.5, 14.12), the parameter of a `catch` (14.15), imports (16.2)
abbrev pub frame : AstType → Label → (ℕ → Role) → Fields → List Bound
frame k l roles fs = class_frame k l roles fs ++ declared_in false (is_inside k) roles fs

-- `var` and functions at the top of a body (10.2.11, 16.1.7)
abbrev pub var_frame : (ℕ → Role) → Fields → List Bound
var_frame roles fs = declared_in true (λ i. true) roles fs

-- PLACES

-- What a name refers to here, what a `var` of that name declares here, and the parameters of the function whose body this is.
pub record Place : Type 0 where
  pub scope : Text → Option ℕ
  pub hoist : Text → Option ℕ
  pub parameters : Text → Bool

abbrev pub or_around : Option (Option ℕ) → Option ℕ → Option ℕ
or_around None around = around
or_around (Some s) around = s

-- these names more
abbrev pub within : List Bound → (Text → Option ℕ) → Text → Option ℕ
within bs around x = or_around (sought bs x) (around x)

-- `var` of a parameter's name is the parameter's (10.2.11)
abbrev pub within_vars : (Text → Bool) → List Bound → (Text → Option ℕ) → Text → Option ℕ
within_vars parameters bs around x = if parameters x then around x else within bs around x

abbrev pub around : Place → AstType → (ℕ → Role) → Fields → Text → Option ℕ
around p k roles fs = within (name_frame k roles fs) p.scope

abbrev pub vars_in : Place → AstType → (ℕ → Role) → Fields → Text → Option ℕ
vars_in p k roles fs = if is_var_scope k then within_vars p.parameters (var_frame roles fs) (around p k roles fs) else around p k roles fs

abbrev pub inner : Place → AstType → Label → (ℕ → Role) → Fields → Text → Option ℕ
inner p k l roles fs = within (frame k l roles fs) (vars_in p k roles fs)

-- what a `var` declares here: `var` of a parameter's name is the parameter's, even where the body declares it otherwise too
abbrev pub hoisting : Place → AstType → Label → (ℕ → Role) → Fields → Text → Option ℕ
hoisting p k l roles fs x = if p.parameters x then around p k roles fs x else inner p k l roles fs x

abbrev pub bound_by : List Bound → Text → Bool
bound_by bs x = is_some (sought bs x)

abbrev pub no_name : Text → Bool
no_name x = false

-- the parameters of the function whose fields these are
abbrev pub parameters_in : AstType → Label → (ℕ → Role) → Fields → Text → Bool
parameters_in k l roles fs = if is_function k then bound_by (frame k l roles fs) else no_name

-- the place of what stands in this field of a node
abbrev pub place_in : Place → AstType → Label → (ℕ → Role) → Fields → ℕ → Place
place_in p k l roles fs i = record {
  scope = if has_scope k && is_inside k i then inner p k l roles fs else around p k roles fs;
  hoist = if is_var_scope k then hoisting p k l roles fs else p.hoist;
  parameters = parameters_in k l roles fs;
}

abbrev pub nowhere : Place
nowhere = record { scope = λ x. None; hoist = λ x. None; parameters = no_name }

-- RESOLVED TREES

abbrev pub IsRight : Place → Role → Text → Option ℕ → Type 0
IsRight p Nothing x s = Unit {0}
IsRight p (Binds b) x s = (s ≡ (if hoists b then p.hoist x else p.scope x)) × (is_some s ≡ true)
IsRight p _ x s = s ≡ p.scope x

abbrev pub OwnRight : Place → Role → AstType → Label → Type 0
OwnRight p r Identifier l = IsRight p r (first_text l.texts) (symbol_of l)
OwnRight p r _ l = Unit {0}

abbrev pub has_symbol : Bound → Bool
has_symbol b = is_some b.symbol

abbrev pub IsMarked : List Bound → Type 0
IsMarked bs = list_all has_symbol bs ≡ true

abbrev mutual
  pub Resolved : Role → Place → Tree → Type 0
  Resolved r p (node k l fs) = OwnRight p r k l × IsMarked (class_frame k l (role_at r k l fs) fs) × ResolvedIn (role_at r k l fs) (place_in p k l (role_at r k l fs) fs) fs

  pub ResolvedIn : (ℕ → Role) → (ℕ → Place) → Fields → Type 0
  ResolvedIn roles places done = Unit {0}
  ResolvedIn roles places (f then fs) = ResolvedBy (roles zero) (places zero) f × ResolvedIn (λ i. roles (suc i)) (λ i. places (suc i)) fs

  pub ResolvedBy : Role → Place → Field → Type 0
  ResolvedBy r p missing = Unit {0}
  ResolvedBy r p (one t) = Resolved r p t
  ResolvedBy r p (many ts) = ResolvedAll r p ts
  ResolvedBy r p (statements ts) = ResolvedAll r p ts

  pub ResolvedAll : Role → Place → Trees → Type 0
  ResolvedAll r p empty = Unit {0}
  ResolvedAll r p (t before ts) = Resolved r p t × ResolvedAll r p ts

abbrev pub IsResolved : Tree → Type 0
IsResolved t = Resolved reads nowhere t
