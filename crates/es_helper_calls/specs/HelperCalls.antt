-- Calls of helpers. The lowerings write a helper as a property of `babelHelpers` (ECMA-262, 13.3.2, 13.3.6); where it is to be imported, each such
-- call becomes one of a name of the program's: `babelHelpers.objectSpread2({}, a)` becomes `_objectSpread({}, a)`. A helper that is handed on
-- becomes a name, too: `[k].map(babelHelpers.toPropertyKey)` becomes `[k].map(_toPropertyKey)`.
use Rattle.std.specs.Prelude.{List, [], ◌∷◌, ◌++◌, Bool, false, ◌&&◌, not, Option, Some, None, bytes_eq, codes, find, is_some, if◌then◌else◌}
use Rattle.std.specs.List.{list_any}
use Rattle.std.specs.Option.{option_or}
use Rattle.es_tree.specs.Helpers.{helper_text}
use Rattle.es_tree.specs.Names.{first_text, flag_at}
use Rattle.es_tree.specs.Tree.{Tree, node, Label, Fields, done, ◌then◌, Field, missing, one, many, statements, Trees, empty, ◌before◌}
use Rattle.es_tree.specs.Words.{Text}
use Rattle.es_tree.specs.declared.ast_type.AstType.{AstType}
use Rattle.es_tree.specs.declared.ast_type.AstType.TheVariants.{CallExpression, Identifier, MemberExpression}
use Rattle.es_tree.specs.declared.helper.Helper.{Helper}
use Rattle.es_tree.specs.declared.helper.Helper.TheVariants.{Extends, ObjectDestructuringEmpty, ObjectSpread2, ObjectWithoutProperties, ToPropertyKey, UsingCtx}
use Rattle.es_resolution.specs.Declarations.{Bound}

-- THE HELPERS that the built lowerings call, or hand on
abbrev pub made_helpers : List Helper
made_helpers = ObjectSpread2 ∷ Extends ∷ ObjectDestructuringEmpty ∷ ObjectWithoutProperties ∷ ToPropertyKey ∷ UsingCtx ∷ []

-- the one of this name
abbrev pub named_helper : Text → Option Helper
named_helper x = find (λ h. bytes_eq (helper_text h) x) made_helpers

abbrev pub is_helper : Helper → Helper → Bool
is_helper g h = bytes_eq (helper_text g) (helper_text h)

-- WHICH HELPER a node uses: it calls it, or hands it on

-- the identifier of this name
abbrev pub is_called : Text → Tree → Bool
is_called x (node Identifier l fs) = bytes_eq (first_text l.texts) x
is_called x t = false

-- a member that is neither computed nor optional
abbrev pub is_dotted : Label → Bool
is_dotted l = not (flag_at 0 l.flags) && not (flag_at 1 l.flags)

-- `babelHelpers.NAME`
abbrev pub helper_of : Tree → Option Helper
helper_of (node MemberExpression l (one o then (one (node Identifier m fs) then done))) = if is_dotted l && is_called (codes "babelHelpers") o then named_helper (first_text m.texts) else None
helper_of t = None

-- the only one that is handed on makes a key of a value (7.1.19)
abbrev pub handed_on : Option Helper → Option Helper
handed_on (Some ToPropertyKey) = Some ToPropertyKey
handed_on o = None

abbrev pub lone_helper : Trees → Option Helper
lone_helper (t before empty) = handed_on (helper_of t)
lone_helper ts = None

-- `(babelHelpers.toPropertyKey)`, behind a callee: the one argument
abbrev pub passed_helper : Fields → Option Helper
passed_helper (many ts then fs) = lone_helper ts
passed_helper fs = None

-- `babelHelpers.NAME(..)`, or else `f(babelHelpers.toPropertyKey)`, with no optional mark
abbrev pub used_helper : AstType → Label → Fields → Option Helper
used_helper CallExpression l (one f then fs) = if flag_at 0 l.flags then None else option_or (helper_of f) (passed_helper fs)
used_helper k l fs = None

-- of a tree each in turn, those in a call's arguments before its own
abbrev pub own_helper : Option Helper → List Helper
own_helper None = []
own_helper (Some h) = h ∷ []

abbrev mutual
  pub helpers_in : Tree → List Helper
  helpers_in (node k l fs) = helpers_in_fields fs ++ own_helper (used_helper k l fs)

  pub helpers_in_fields : Fields → List Helper
  helpers_in_fields done = []
  helpers_in_fields (f then fs) = helpers_in_field f ++ helpers_in_fields fs

  pub helpers_in_field : Field → List Helper
  helpers_in_field missing = []
  helpers_in_field (one t) = helpers_in t
  helpers_in_field (many ts) = helpers_among ts
  helpers_in_field (statements ts) = helpers_among ts

  pub helpers_among : Trees → List Helper
  helpers_among empty = []
  helpers_among (t before ts) = helpers_in t ++ helpers_among ts

-- the helpers that a program uses, each once, in the order of their first uses: what is known already, and those of these that aren't
abbrev pub noted : List Helper → List Helper → List Helper
noted known [] = known
noted known (h ∷ hs) = noted (if list_any (λ g. is_helper g h) known then known else known ++ h ∷ []) hs

abbrev pub helpers_called : Tree → List Helper
helpers_called p = noted [] (helpers_in p)

-- A TREE IN WHICH EACH HELPER IS CALLED, OR HANDED ON, BY ANOTHER EXPRESSION, this one

abbrev pub with_callee : Tree → Fields → Fields
with_callee t (one f then fs) = one t then fs
with_callee t fs = fs

abbrev pub with_argument : Tree → Fields → Fields
with_argument t (f then (many us then fs)) = f then (many (t before empty) then fs)
with_argument t fs = fs

-- whether a helper is what is called
abbrev pub calls_one : Fields → Bool
calls_one (one f then fs) = is_some (helper_of f)
calls_one fs = false

-- where the helper stood
abbrev pub in_its_place : Tree → Fields → Fields
in_its_place t fs = if calls_one fs then with_callee t fs else with_argument t fs

abbrev pub calling_here : (Helper → Tree) → Option Helper → Fields → Fields
calling_here c None fs = fs
calling_here c (Some h) fs = in_its_place (c h) fs

abbrev mutual
  pub calling : (Helper → Tree) → Tree → Tree
  calling c (node k l fs) = node k l (calling_here c (used_helper k l fs) (calling_in c fs))

  pub calling_in : (Helper → Tree) → Fields → Fields
  calling_in c done = done
  calling_in c (f then fs) = calling_by c f then calling_in c fs

  pub calling_by : (Helper → Tree) → Field → Field
  calling_by c missing = missing
  calling_by c (one t) = one (calling c t)
  calling_by c (many ts) = many (calling_among c ts)
  calling_by c (statements ts) = statements (calling_among c ts)

  pub calling_among : (Helper → Tree) → Trees → Trees
  calling_among c empty = empty
  calling_among c (t before ts) = calling c t before calling_among c ts

-- THE NAMES by which helpers are called: of these helpers, in order, they are these

abbrev pub nameless : Bound
nameless = record { name = []; symbol = None }

abbrev pub bound_of : List Helper → List Bound → Helper → Bound
bound_of (g ∷ gs) (b ∷ bs) h = if is_helper g h then b else bound_of gs bs h
bound_of gs bs h = nameless
