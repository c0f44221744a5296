-- What a part of a program has become where names stand for its lists of excluded keys, and the constants that were made for them.
use Rattle.std.specs.Prelude.{◌≡◌, ◌++◌, Bool, true, List, [], ◌∷◌, None, map}
use Rattle.es_tree.specs.Fresh.{also}
use Rattle.es_tree.specs.Tree.{Tree, node, Fields, done, ◌then◌, one, many, Trees}
use Rattle.es_tree.specs.Words.{Text}
use Rattle.es_tree.specs.declared.ast_type.AstType.{AstType}
use Rattle.es_tree.specs.Tree.{Label}
use Rattle.es_scope.specs.Uids.{made, uses}
use Rattle.es_resolution.specs.Declarations.{Bound}
use Rattle.es_steps.specs.Nodes.{identifier}
use Rattle.es_excluded_keys.specs.ExcludedKeys.{AreFresh, Shares, leaves_out}
use Rattle.lower_excluded_keys.specs.Parts.{declarator_with_name}
use Rattle.lower_excluded_keys.specs.declared.constants.MadeConstants.{MadeConstants}

-- CONSTANTS, each a name and the list that it stands for
pub record Named : Type 0 where
  pub name : Text
  pub keys : Tree

abbrev pub names_in : List Named → List Text
names_in cs = map (λ c. c.name) cs

abbrev pub bounds_in : List Named → List Bound
bounds_in cs = map (λ c. record { name = c.name; symbol = None }) cs

abbrev pub lists_in : List Named → List Tree
lists_in cs = map (λ c. c.keys) cs

abbrev pub declarators_of : List Named → List Tree
declarators_of cs = map (λ c. declarator_with_name c.name c.keys) cs

-- these names are in use, too
abbrev pub also_these : List Text → (Text → Bool) → Text → Bool
also_these [] in_use = in_use
also_these (x ∷ xs) in_use = also_these xs (also x in_use)

-- Between these two states these constants were made, and each of their names is fresh.
pub record Makes (old new : MadeConstants) (cs : List Named) : Type 0 where
  pub made_is : made new.uids ≡ made old.uids ++ names_in cs
  pub fresh : AreFresh (uses old.uids) (names_in cs)
  pub used : (x : Text) → uses new.uids x ≡ also_these (names_in cs) (uses old.uids) x
  pub declared : new.declarators.items ≡ old.declarators.items ++ declarators_of cs

-- WHAT A PART HAS BECOME between these two states: but for ids and marks it is a part in which names stand for lists in this way, those of the
-- constants that were made.
pub record Becomes {T : Type 0} (shares : List Bound → List Tree → T → Type 0) (bared : T → T) (old new : MadeConstants) (t : T) : Type 0 where
  pub constants : List Named
  pub makes : Makes old new constants
  pub shared : T
  pub shares_to : shares (bounds_in constants) (lists_in constants) shared
  pub written : bared t ≡ bared shared

-- a list of keys, which a name stands for
abbrev pub IsNamed : Tree → List Bound → List Tree → Tree → Type 0
IsNamed keys xs ls t = (x : Bound) × (xs ≡ x ∷ []) × (ls ≡ keys ∷ []) × (t ≡ identifier x)

-- the fields of a call that leaves out keys, and its arguments
abbrev pub SharesCall : Fields → List Bound → List Tree → Fields → Type 0
SharesCall fs xs ls gs = (k : AstType) (l : Label) → leaves_out k l fs ≡ true → Shares true (node k l fs) xs ls (node k l gs)

abbrev pub SharesArguments : Trees → List Bound → List Tree → Trees → Type 0
SharesArguments ts xs ls us = (f : Tree) → SharesCall (one f then (many ts then done)) xs ls (one f then (many us then done))
