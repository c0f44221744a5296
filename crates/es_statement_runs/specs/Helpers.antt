-- The helpers of the runtime: how a program gets them, and which of its names stand for one, or for a constant list of keys.
use Rattle.std.specs.Prelude.{ℕ, zero, suc, Bool, true, false, not, ◌&&◌, ◌||◌, ◌+◌, List, [], ◌∷◌, ◌++◌, Option, Some, None, bytes_eq, if◌then◌else◌, codes, nat_eq}
use Rattle.std.specs.List.{list_any}
use Rattle.es_tree.specs.Words.{Text}
use Rattle.es_tree.specs.Helpers.{helper_text}
use Rattle.es_tree.specs.Names.{first_text, names_of}
use Rattle.es_tree.specs.Fresh.{is_among}
use Rattle.es_tree.specs.Walks.{all_nodes}
use Rattle.es_tree.specs.Scopes.{own_text, target_names}
use Rattle.es_tree.specs.Tree.{Tree, node, Fields, done, ◌then◌, Field, missing, one, many, statements, Trees, empty, ◌before◌}
use Rattle.es_tree.specs.declared.ast_type.AstType.{AstType}
use Rattle.es_tree.specs.declared.ast_type.AstType.TheVariants.{VariableDeclaration, VariableDeclarator, ForInStatement, ForOfStatement, ImportDeclaration, ImportDefaultSpecifier, Identifier, StringLiteral, ArrayExpression, AssignmentExpression, UpdateExpression, CallExpression, MemberExpression, TargetProperty, ArrayTarget, TargetWithDefault, TargetRest}
use Rattle.es_tree.specs.declared.helper.Helper.{Helper}
use Rattle.es_tree.specs.declared.helper.Helper.TheVariants.{AwaitAsyncGenerator, AsyncGeneratorDelegate, AsyncIterator, AsyncToGenerator, ObjectSpread2, WrapAsyncGenerator, Extends, ObjectDestructuringEmpty, ObjectWithoutProperties, ToPropertyKey, DefineProperty, ClassPrivateFieldInitSpec, ClassPrivateMethodInitSpec, ClassPrivateFieldGet2, ClassPrivateFieldSet2, AssertClassBrand, ToSetter, ClassPrivateFieldLooseKey, ClassPrivateFieldLooseBase, SuperPropGet, SuperPropSet, ReadOnlyError, WriteOnlyError, CheckInRHS, Decorate, DecorateParam, DecorateMetadata, UsingCtx, TaggedTemplateLiteral, SetFunctionName}
use Rattle.es_runs.specs.Machine.{Values}
use Rattle.es_runs.specs.Machine.Value.{text}
use Rattle.es_runs.specs.Machine.Values.{none, ◌and◌}
use Rattle.es_runs.specs.Core.{Silent}
use Rattle.es_runs.specs.Core.Silent.{helper_name, keys_name}
use Rattle.es_statement_runs.specs.Names.{is_word, names_of_all, declared_at_top}

-- HOW A PROGRAM GETS THEM: not at all, that of object spread alone or all of them as members of the unbound name `babelHelpers`, or from the modules
-- `MODULE/helpers/NAME`, which a module imports and a script requires
pub data Supply : Type 0 where
  no_helpers spread_by_global by_global : Supply
  by_import by_require : Text → Supply

abbrev pub all_helpers : List Helper
all_helpers =
    AwaitAsyncGenerator ∷ AsyncGeneratorDelegate ∷ AsyncIterator ∷ AsyncToGenerator ∷ ObjectSpread2 ∷ WrapAsyncGenerator ∷ Extends ∷
    ObjectDestructuringEmpty ∷ ObjectWithoutProperties ∷ ToPropertyKey ∷ DefineProperty ∷ ClassPrivateFieldInitSpec ∷ ClassPrivateMethodInitSpec ∷
    ClassPrivateFieldGet2 ∷ ClassPrivateFieldSet2 ∷ AssertClassBrand ∷ ToSetter ∷ ClassPrivateFieldLooseKey ∷ ClassPrivateFieldLooseBase ∷
    SuperPropGet ∷ SuperPropSet ∷ ReadOnlyError ∷ WriteOnlyError ∷ CheckInRHS ∷ Decorate ∷ DecorateParam ∷ DecorateMetadata ∷ UsingCtx ∷
    TaggedTemplateLiteral ∷ SetFunctionName ∷ []

-- one of their names
abbrev pub is_helper_text : Text → Bool
is_helper_text t = list_any (λ h. bytes_eq t (helper_text h)) all_helpers

abbrev pub without_prefix : Text → Text → Option Text
without_prefix [] t = Some t
without_prefix (c ∷ cs) [] = None
without_prefix (c ∷ cs) (d ∷ ds) = if nat_eq c d then without_prefix cs ds else None

abbrev pub if_helper : Option Text → Option Text
if_helper None = None
if_helper (Some h) = if is_helper_text h then Some h else None

-- the helper in `MODULE/helpers/NAME`
abbrev pub helper_in : Text → Text → Option Text
helper_in module_name t = if_helper (without_prefix (module_name ++ codes "/helpers/") t)

-- the helper that `require` of this text gives
abbrev pub required_from : Supply → Text → Option Text
required_from (by_require m) t = helper_in m t
required_from _ t = None

-- WHICH NAMES STAND FOR ONE

abbrev pub named_helper : Text → Option Text → List (Text × Silent)
named_helper x None = []
named_helper x (Some h) = (x, helper_name h) ∷ []

-- `import x from "MODULE/helpers/NAME"`, with nothing else imported
abbrev pub imported_helper : Text → Tree → List (Text × Silent)
imported_helper m (node ImportDeclaration l (many (node ImportDefaultSpecifier k (one x then done) before empty) then (one source then fs))) = named_helper (own_text x) (helper_in m (own_text source))
imported_helper m t = []

abbrev pub imported_helpers : Text → Trees → List (Text × Silent)
imported_helpers m empty = []
imported_helpers m (t before ts) = imported_helper m t ++ imported_helpers m ts

-- the names that a node writes
abbrev pub targets_in : Fields → List Text
targets_in done = []
targets_in (one t then fs) = target_names t ++ targets_in fs
targets_in (f then fs) = targets_in fs

abbrev pub writes_of : AstType → Fields → List Text
writes_of AssignmentExpression (one t then fs) = target_names t
writes_of UpdateExpression (one t then fs) = target_names t
writes_of ForInStatement (one t then fs) = target_names t
writes_of ForOfStatement (one t then fs) = target_names t
writes_of TargetProperty (k then (one t then fs)) = target_names t
writes_of ArrayTarget fs = targets_in fs
writes_of TargetWithDefault (one t then fs) = target_names t
writes_of TargetRest (one t then fs) = target_names t
writes_of k fs = []

abbrev pub is_unwritten : Text → Tree → Bool
is_unwritten x t = all_nodes (λ k l fs. not (is_among (writes_of k fs) x)) t

abbrev pub one_where : Bool → ℕ
one_where true = 1
one_where false = 0

abbrev pub occurrences : Text → List Text → ℕ
occurrences x [] = 0
occurrences x (y ∷ ys) = one_where (bytes_eq y x) + occurrences x ys

-- a name that the top declares once and nothing writes
abbrev pub is_settled : Text → Tree → Bool
is_settled x p = nat_eq (occurrences x (names_of_all (declared_at_top p))) 1 && is_unwritten x p

abbrev pub if_settled : Bool → List (Text × Silent) → List (Text × Silent)
if_settled true es = es
if_settled false es = []

-- `x = require("MODULE/helpers/NAME")`
abbrev pub required_helper : Text → Tree → Tree → List (Text × Silent)
required_helper m p (node VariableDeclarator l (one x then (one (node CallExpression c (one (node Identifier j gs) then (many (node StringLiteral i hs before empty) then done))) then done))) =
    if_settled (is_word (codes "require") (first_text j.texts) && is_settled (own_text x) p) (named_helper (own_text x) (helper_in m (first_text i.texts)))
required_helper m p t = []

abbrev pub declarators_helpers : Text → Tree → Trees → List (Text × Silent)
declarators_helpers m p empty = []
declarators_helpers m p (d before ds) = required_helper m p d ++ declarators_helpers m p ds

abbrev pub required_helpers : Text → Tree → Trees → List (Text × Silent)
required_helpers m p empty = []
required_helpers m p (node VariableDeclaration l (many ds then fs) before ts) = declarators_helpers m p ds ++ required_helpers m p ts
required_helpers m p (t before ts) = required_helpers m p ts

abbrev pub list_of_program : Fields → Trees
list_of_program (f then (statements ts then fs)) = ts
list_of_program _ = empty

abbrev pub program_list : Tree → Trees
program_list (node k l fs) = list_of_program fs

-- the names of a program's list that stand for helpers; `require` is to be unbound
abbrev pub helper_names : Supply → Tree → List (Text × Silent)
helper_names no_helpers p = []
helper_names spread_by_global p = []
helper_names by_global p = []
helper_names (by_import m) p = imported_helpers m (program_list p)
helper_names (by_require m) p = if is_among (names_of_all (declared_at_top p)) (codes "require") then [] else required_helpers m p (program_list p)

-- CONSTANT LISTS OF KEYS

-- the first entry under a name
abbrev pub entry : {A : Type 0} → List (Text × A) → Text → Option A
entry [] x = None
entry (e ∷ es) x = if bytes_eq e.0 x then Some e.1 else entry es x

abbrev pub is_named : Text → Option Silent → Bool
is_named h (Some (helper_name t)) = is_word h t
is_named h _ = false

abbrev pub is_this_name : Text → Tree → Bool
is_this_name x (node Identifier l fs) = bytes_eq (first_text l.texts) x
is_this_name x t = false

-- whether this is a helper, as a callee
abbrev pub is_helper : Supply → List (Text × Silent) → Text → Tree → Bool
is_helper by_global hs h (node MemberExpression l (one o then (one x then fs))) = is_this_name (codes "babelHelpers") o && is_word h (own_text x)
is_helper u hs h (node Identifier l fs) = is_named h (entry hs (first_text l.texts))
is_helper u hs h t = false

-- `objectWithoutProperties(e, x)`
abbrev pub excludes_by : Supply → List (Text × Silent) → Text → AstType → Fields → Bool
excludes_by u hs x CallExpression (one f then (many (e before (k before empty)) then fs)) = is_helper u hs (codes "objectWithoutProperties") f && is_this_name x k
excludes_by u hs x k fs = false

abbrev mutual
  -- how often a name stands as the keys of such a call
  pub key_places : Supply → List (Text × Silent) → Text → Tree → ℕ
  key_places u hs x (node k l fs) = one_where (excludes_by u hs x k fs) + key_places_in u hs x fs

  pub key_places_in : Supply → List (Text × Silent) → Text → Fields → ℕ
  key_places_in u hs x done = 0
  key_places_in u hs x (f then fs) = key_places_at u hs x f + key_places_in u hs x fs

  pub key_places_at : Supply → List (Text × Silent) → Text → Field → ℕ
  key_places_at u hs x missing = 0
  key_places_at u hs x (one t) = key_places u hs x t
  key_places_at u hs x (many ts) = key_places_all u hs x ts
  key_places_at u hs x (statements ts) = key_places_all u hs x ts

  pub key_places_all : Supply → List (Text × Silent) → Text → Trees → ℕ
  key_places_all u hs x empty = 0
  key_places_all u hs x (t before ts) = key_places u hs x t + key_places_all u hs x ts

-- the texts of an array of texts alone
abbrev pub with_text : Text → Option Values → Option Values
with_text t (Some vs) = Some (text t and vs)
with_text t None = None

abbrev pub texts_of : Fields → Option Values
texts_of done = Some none
texts_of (one (node StringLiteral l gs) then fs) = with_text (first_text l.texts) (texts_of fs)
texts_of (f then fs) = None

abbrev pub constant_where : Text → Bool → Option Values → List (Text × Silent)
constant_where x true (Some vs) = (x, keys_name vs) ∷ []
constant_where x _ _ = []

-- a name that stands once more than as such keys, and as these at least once: it is declared once and only such keys else
abbrev pub only_excludes : ℕ → ℕ → Bool
only_excludes zero m = false
only_excludes (suc n) m = nat_eq m (suc (suc n))

-- `x = [TEXTS]`, where x is a name that is read somewhere, and only as the keys of such calls
abbrev pub constant_by : Supply → List (Text × Silent) → Tree → Tree → List (Text × Silent)
constant_by u hs p (node VariableDeclarator l (one (node Identifier k gs) then (one (node ArrayExpression m es) then done))) =
    constant_where (first_text k.texts) (only_excludes (key_places u hs (first_text k.texts) p) (occurrences (first_text k.texts) (names_of p))) (texts_of es)
constant_by u hs p t = []

abbrev pub constants_by : Supply → List (Text × Silent) → Tree → Trees → List (Text × Silent)
constants_by u hs p empty = []
constants_by u hs p (d before ds) = constant_by u hs p d ++ constants_by u hs p ds

abbrev pub binds_constant : Text → Bool
binds_constant t = is_word (codes "const") t || is_word (codes "var") t

abbrev pub constants_in : Supply → List (Text × Silent) → Tree → Trees → List (Text × Silent)
constants_in u hs p empty = []
constants_in u hs p (node VariableDeclaration l (many ds then fs) before ts) = (if binds_constant (first_text l.texts) then constants_by u hs p ds else []) ++ constants_in u hs p ts
constants_in u hs p (t before ts) = constants_in u hs p ts

-- the names of a program's list that are used without a question
abbrev pub silent_names : Supply → Tree → List (Text × Silent)
silent_names no_helpers p = []
silent_names spread_by_global p = []
silent_names u p = helper_names u p ++ constants_in u (helper_names u p) p (program_list p)
