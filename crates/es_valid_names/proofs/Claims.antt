-- What the three static rules of declared names ask of a tree, without the numbers of nodes. For a node whose namespaces are looked at,
-- its number is 1, and that of every other node is 0: so what is declared in its namespaces are the names whose owner is 1.
use Rattle.std.proofs.Common.{◌≡◌, ℕ, zero, suc, List, [], ◌∷◌, ◌++◌, ◌==◌, filter}
use Rattle.std.specs.Prelude.{Bool, true, false, not, ◌&&◌, ◌||◌, if◌then◌else◌}
use Rattle.std.specs.List.{list_any}
use Rattle.es_tree.specs.Ancestors.{Ancestor, ancestor, is_class, is_scope}
use Rattle.es_tree.specs.Children.{child_at}
use Rattle.es_tree.specs.CoreStaticRules.{is_name}
use Rattle.es_tree.specs.DeclaredNames.{Name, clashes, declared, is_declared}
use Rattle.es_tree.specs.Names.{first_text, third_stands}
use Rattle.es_tree.specs.StaticRules.{has_no_name, is_bad_method, is_crowded_export}
use Rattle.es_tree.specs.Tree.{Tree, node, Label, Fields, done, ◌then◌, Field, missing, one, many, statements, Trees, empty, ◌before◌}
use Rattle.es_tree.specs.Words.{Text}
use Rattle.es_tree.specs.declared.ast_type.AstType.{AstType}
use Rattle.es_tree.specs.declared.ast_type.AstType.TheVariants.{BlockStatement, CatchClause, ClassDeclaration, ClassExpression, ExportDefaultDeclaration, ExportNamedDeclaration, ExportSpecifier, FunctionDeclaration, Identifier, MethodDefinition, ObjectProperty, PatternProperty, PrivateIdentifier, PropertyDefinition, StringLiteral, TargetProperty}
use Rattle.es_tree.specs.declared.place.Namespace.{Namespace}
use Rattle.es_tree.specs.declared.place.Namespace.TheVariants.{PrivateNames, Scope}

-- CLAIMS

-- of the fields of an ancestor only this is asked: whether the first, where it leads here, is a plain name
abbrev pub name_or_none : Bool → Fields
name_or_none true = one (node Identifier (record { id = 0; start = 0; stop = 0; texts = []; flags = []; marks = [] }) done) then done
name_or_none false = done

abbrev pub face : ℕ → Fields → Fields
face zero fs = name_or_none (is_name (child_at 0 fs))
face (suc i) fs = done

abbrev pub above : AstType → Label → Fields → ℕ → ℕ → Ancestor
above k l fs i m = ancestor k l (face i fs) i m

-- the names that a node declares, where there are some
abbrev pub push : List Name → List (List Name) → List (List Name)
push [] gs = gs
push (n ∷ ns) gs = (n ∷ ns) ∷ gs

-- The names that pass the test of all that nodes of a tree declare, one list for each node that declares some, in node order.
module _ (asked : Name → Bool) where
  abbrev mutual
    pub claims : List Ancestor → Tree → List (List Name)
    claims up (node k l fs) = push (filter asked (declared up (node k l fs))) (claims_in up k l fs 0 0 fs)

    -- of the fields of a node with this number, from the i-th on
    pub claims_in : List Ancestor → AstType → Label → Fields → ℕ → ℕ → Fields → List (List Name)
    claims_in up k l all m i done = []
    claims_in up k l all m i (f then fs) = claims_by (above k l all i m ∷ up) f ++ claims_in up k l all m (suc i) fs

    pub claims_by : List Ancestor → Field → List (List Name)
    claims_by up missing = []
    claims_by up (one t) = claims up t
    claims_by up (many ts) = claims_all up ts
    claims_by up (statements ts) = claims_all up ts

    pub claims_all : List Ancestor → Trees → List (List Name)
    claims_all up empty = []
    claims_all up (t before ts) = claims up t ++ claims_all up ts

-- in the namespaces of the node that is looked at
abbrev pub is_owned : Name → Bool
is_owned n = n.owner == 1

-- CLASHES

abbrev pub is_scope_space : Namespace → Bool
is_scope_space Scope = true
is_scope_space _ = false

-- a name that a scope binds is in use
abbrev pub is_used : (Text → Bool) → Name → Bool
is_used used n = not (is_scope_space n.namespace) || used n.text

abbrev pub AllUsed : (Text → Bool) → List Name → Type 0
AllUsed used [] = Unit {0}
AllUsed used (n ∷ ns) = (is_used used n ≡ true) × AllUsed used ns

-- after these names no list has a name that clashes with an earlier one, and all are in use
abbrev pub Distinct : (Text → Bool) → List Name → List (List Name) → Type 0
Distinct used earlier [] = Unit {0}
Distinct used earlier (g ∷ gs) = (list_any (λ n. clashes earlier n) g ≡ false) × AllUsed used g × Distinct used (g ++ earlier) gs

-- PLACES, as far as the rules ask what stands around

pub data Stand : Type 0 where
  in_catch : Stand
  class_key : Stand
  plain_key : Stand
  default_export : Stand
  specifier : Stand
  local_name : Stand
  elsewhere : Stand

abbrev pub specified : Bool → Stand
specified true = elsewhere
specified false = specifier

abbrev pub local_in : Stand → Stand
local_in specifier = local_name
local_in s = elsewhere

-- what stands in a field of a node that stands so
abbrev pub stand_in : Stand → AstType → Fields → ℕ → Stand
stand_in s CatchClause fs (suc zero) = in_catch
stand_in s MethodDefinition fs zero = class_key
stand_in s PropertyDefinition fs zero = class_key
stand_in s ObjectProperty fs zero = plain_key
stand_in s PatternProperty fs zero = plain_key
stand_in s TargetProperty fs zero = plain_key
stand_in s ExportDefaultDeclaration fs zero = default_export
stand_in s ExportNamedDeclaration fs (suc zero) = specified (third_stands fs)
stand_in s ExportSpecifier fs zero = local_in s
stand_in s k fs i = elsewhere

-- WHAT IS KNOWN AROUND: which names are in use, which private names the classes around declare, and what the top does
pub record Around : Type 0 where
  pub used : Text → Bool
  pub privates : Text → Bool
  pub top : Text → Bool

-- all names of some lists, the last list first
abbrev pub joined : List (List Name) → List Name → List Name
joined [] ns = ns
joined (g ∷ gs) ns = joined gs (g ++ ns)

-- the private names that a class declares
abbrev pub has_private : List (List Name) → Text → Bool
has_private gs x = is_declared (joined gs []) PrivateNames 1 x

abbrev pub in_body : AstType → ℕ → Bool
in_body ClassDeclaration (suc (suc zero)) = true
in_body ClassExpression (suc (suc zero)) = true
in_body k i = false

abbrev pub around_in : Around → Bool → List (List Name) → Around
around_in c true gs = record c { privates = λ x. c.privates x || has_private gs x }
around_in c false gs = c

-- THE RULES OF ONE NODE

abbrev pub is_key : Stand → Bool
is_key class_key = true
is_key _ = false

abbrev pub is_plain : Stand → Bool
is_plain plain_key = true
is_plain _ = false

abbrev pub is_default : Stand → Bool
is_default default_export = true
is_default _ = false

abbrev pub is_local : Stand → Bool
is_local local_name = true
is_local _ = false

abbrev pub is_wrong : Around → Stand → AstType → Label → Fields → Bool
is_wrong c s MethodDefinition l fs = is_bad_method l fs
is_wrong c s PrivateIdentifier l fs = not (is_key s) && (is_plain s || not (c.privates (first_text l.texts)))
is_wrong c s ExportNamedDeclaration l fs = is_crowded_export fs
is_wrong c s FunctionDeclaration l fs = has_no_name fs && not (is_default s)
is_wrong c s ClassDeclaration l fs = has_no_name fs && not (is_default s)
is_wrong c s StringLiteral l fs = is_local s
is_wrong c s Identifier l fs = is_local s && not (c.top (first_text l.texts))
is_wrong c s k l fs = false

-- whether nodes of this kind have namespaces
abbrev pub is_owner : AstType → Bool
is_owner k = is_scope k || is_class k

-- the body of a catch clause makes no scope of its own
abbrev pub catch_body : Ancestor
catch_body = ancestor CatchClause (record { id = 0; start = 0; stop = 0; texts = []; flags = []; marks = [] }) done 1 0

abbrev pub catch_above : Stand → List Ancestor
catch_above in_catch = catch_body ∷ []
catch_above _ = []

abbrev pub outside : Stand → AstType → List Ancestor
outside s BlockStatement = catch_above s
outside s k = []

-- what is declared in the namespaces of a node
abbrev pub owned : Stand → AstType → Label → Fields → List (List Name)
owned s k l fs = claims_in is_owned (outside s k) k l fs 1 0 fs

abbrev pub OwnClear : (Text → Bool) → Bool → List (List Name) → Type 0
OwnClear used true gs = Distinct used [] gs
OwnClear used false gs = Unit {0}

-- EACH NODE keeps the rules: none of its namespaces has names that clash
abbrev mutual
  pub Clear : Around → Stand → Tree → Type 0
  Clear c s (node k l fs) = OwnClear c.used (is_owner k) (owned s k l fs) × (is_wrong c s k l fs ≡ false) × ClearIn c (owned s k l fs) s k fs 0 fs

  pub ClearIn : Around → List (List Name) → Stand → AstType → Fields → ℕ → Fields → Type 0
  ClearIn c gs s k all i done = Unit {0}
  ClearIn c gs s k all i (f then fs) = ClearBy (around_in c (in_body k i) gs) (stand_in s k all i) f × ClearIn c gs s k all (suc i) fs

  pub ClearBy : Around → Stand → Field → Type 0
  ClearBy c s missing = Unit {0}
  ClearBy c s (one t) = Clear c s t
  ClearBy c s (many ts) = ClearAll c s ts
  ClearBy c s (statements ts) = ClearAll c s ts

  pub ClearAll : Around → Stand → Trees → Type 0
  ClearAll c s empty = Unit {0}
  ClearAll c s (t before ts) = Clear c s t × ClearAll c s ts
