-- THE KEYS THAT AN OBJECT REST LEAVES OUT (ECMA-262, 14.3.3 and 13.15.5, excludedNames; 7.3.26, excludedItems) stand in a list that the helper gets. Below the scope of the program, where it may be
-- called again and again, the list is made once, as a constant of the program: `function f(_ref) { let { a } = _ref, b =
-- babelHelpers.objectWithoutProperties(_ref, ["a"]); }` becomes `const _excluded = ["a"]; function f(_ref) { let { a } = _ref, b =
-- babelHelpers.objectWithoutProperties(_ref, _excluded); }`. A list in which a key is read stays where it is.
use Rattle.std.specs.Prelude.{◌≡◌, ℕ, zero, suc, List, [], ◌∷◌, ◌++◌, Bool, true, false, ◌&&◌, ◌||◌, not, Option, Some, bytes_eq, codes, is_some}
use Rattle.es_tree.specs.Bare.{bare}
use Rattle.es_tree.specs.Constructs.{is_object_rest}
use Rattle.es_tree.specs.Fresh.{IsFreshName, also}
use Rattle.es_tree.specs.Names.{first_text, flag_at}
use Rattle.es_tree.specs.Tree.{Tree, node, Label, Fields, done, ◌then◌, Field, missing, one, many, statements, Trees, empty, ◌before◌}
use Rattle.es_tree.specs.Walks.{any_node}
use Rattle.es_tree.specs.Words.{Text}
use Rattle.es_tree.specs.declared.ast_type.AstType.{AstType}
use Rattle.es_tree.specs.declared.ast_type.AstType.TheVariants.{CallExpression, Identifier}
use Rattle.es_tree.specs.declared.helper.Helper.{Helper}
use Rattle.es_tree.specs.declared.helper.Helper.TheVariants.{ObjectWithoutProperties}
use Rattle.es_tree.specs.declared.options.EnvOptions.{EnvOptions}
use Rattle.es_semantic.specs.Places.{is_inside, makes_scope}
use Rattle.es_resolution.specs.Declarations.{Bound}
use Rattle.es_steps.specs.Nodes.{identifier}
use Rattle.es_helper_calls.specs.HelperCalls.{helper_of}
use Rattle.es_helper_calls.specs.TextLists.{is_text_list}
use Rattle.es_helper_imports.specs.Imported.{unmarked}
use Rattle.es_top_constants.specs.TopConstants.{constants_of, with_constants}

-- WHICH CALLS: `babelHelpers.objectWithoutProperties(s, ["a"])`, with no optional mark

abbrev pub is_leaving_out : Option Helper → Bool
is_leaving_out (Some ObjectWithoutProperties) = true
is_leaving_out _ = false

abbrev pub has_key_list : Fields → Bool
has_key_list (one f then (many (s before (ks before empty)) then done)) = is_leaving_out (helper_of f) && is_text_list ks
has_key_list _ = false

abbrev pub leaves_out : AstType → Label → Fields → Bool
leaves_out CallExpression l fs = not (flag_at 0 l.flags) && has_key_list fs
leaves_out k l fs = false

-- WHERE: whether what stands in this field of a node stands in a scope below the program's
abbrev pub is_below : Bool → AstType → ℕ → Bool
is_below deep k i = deep || (makes_scope k && is_inside k i)

-- WHAT A TREE BECOMES, below the program's scope or not: the names that it takes, the lists that they stand for, in order, those in a call's source
-- before its own, and the tree with them
mutual
  pub data Shares : Bool → Tree → List Bound → List Tree → Tree → Type 0 where
    keeps : {deep : Bool} {k : AstType} {l : Label} {fs gs : Fields} {xs : List Bound} {ls : List Tree} → (deep && leaves_out k l fs) ≡ false → SharesIn (is_below deep k) fs xs ls gs → Shares deep (node k l fs) xs ls (node k l gs)
    shares : {l : Label} {f s ks t : Tree} {xs : List Bound} {ls : List Tree} (x : Bound) → leaves_out CallExpression l (one f then (many (s before (ks before empty)) then done)) ≡ true → Shares true s xs ls t →
        Shares true (node CallExpression l (one f then (many (s before (ks before empty)) then done))) (xs ++ x ∷ []) (ls ++ ks ∷ []) (node CallExpression l (one f then (many (t before (identifier x before empty)) then done)))

  pub data SharesIn : (ℕ → Bool) → Fields → List Bound → List Tree → Fields → Type 0 where
    ends : {deep : ℕ → Bool} → SharesIn deep done [] [] done
    goes : {deep : ℕ → Bool} {f g : Field} {fs gs : Fields} {xs ys : List Bound} {ls ms : List Tree} → SharesBy (deep zero) f xs ls g → SharesIn (λ i. deep (suc i)) fs ys ms gs → SharesIn deep (f then fs) (xs ++ ys) (ls ++ ms) (g then gs)

  pub data SharesBy : Bool → Field → List Bound → List Tree → Field → Type 0 where
    at_none : {deep : Bool} → SharesBy deep missing [] [] missing
    at_one : {deep : Bool} {t u : Tree} {xs : List Bound} {ls : List Tree} → Shares deep t xs ls u → SharesBy deep (one t) xs ls (one u)
    at_many : {deep : Bool} {ts us : Trees} {xs : List Bound} {ls : List Tree} → SharesAll deep ts xs ls us → SharesBy deep (many ts) xs ls (many us)
    at_statements : {deep : Bool} {ts us : Trees} {xs : List Bound} {ls : List Tree} → SharesAll deep ts xs ls us → SharesBy deep (statements ts) xs ls (statements us)

  pub data SharesAll : Bool → Trees → List Bound → List Tree → Trees → Type 0 where
    none : {deep : Bool} → SharesAll deep empty [] [] empty
    next : {deep : Bool} {t u : Tree} {ts us : Trees} {xs ys : List Bound} {ls ms : List Tree} → Shares deep t xs ls u → SharesAll deep ts ys ms us → SharesAll deep (t before ts) (xs ++ ys) (ls ++ ms) (u before us)

-- FRESH NAMES of base `excluded`, each in use after it
abbrev pub AreFresh : (Text → Bool) → List Text → Type 0
AreFresh in_use [] = Unit {0}
AreFresh in_use (x ∷ xs) = IsFreshName in_use (codes "excluded") x × AreFresh (also x in_use) xs

-- What a program p becomes where names stand for its lists of excluded keys, where these names are in use: but for ids and marks it is the program with
-- these constants at its top.
pub record SharesTo (in_use : Text → Bool) (p q : Tree) (names : List Text) : Type 0 where
  pub fresh : AreFresh in_use names
  pub lists : List Tree
  pub shared : Tree
  pub shares : Shares false p (unmarked names) lists shared
  pub written : bare q ≡ bare (with_constants (constants_of (unmarked names) lists) shared)

-- WHEN: an object rest is lowered, and no identifier of the source is `babelHelpers`, a key or a label neither: then each such call is one that was made
-- for a rest.
abbrev pub names_helpers : AstType → Label → Fields → Bool
names_helpers Identifier l fs = bytes_eq (first_text l.texts) (codes "babelHelpers")
names_helpers k l fs = false

abbrev pub names_itself : Tree → Bool
names_itself p = any_node names_helpers p

abbrev pub shares_keys : EnvOptions → Bool → Tree → Bool
shares_keys o named p = is_some o.es2018.object_rest_spread && (not named && any_node is_object_rest p)
