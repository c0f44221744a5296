-- Fresh names: the base of a node, the candidates of a base, and the first one that is not in use.
use Rattle.std.specs.Prelude.{◌≡◌, ℕ, zero, suc, ◌+◌, ◌<◌, List, [], ◌∷◌, ◌++◌, Bool, true, false, ◌&&◌, ◌||◌, ◌==◌, nat_le, codes, decimal, reverse, bytes_eq, if◌then◌else◌}
use Rattle.std.specs.List.{list_any}
use Rattle.es_tree.specs.Words.{Text}
use Rattle.es_tree.specs.Names.{first_text}
use Rattle.es_tree.specs.Tree.{Tree, node, Fields, done, ◌then◌, Field, missing, one, many, statements}
use Rattle.es_tree.specs.declared.ast_type.AstType.TheVariants.{
  Identifier,
  PrivateIdentifier,
  ThisExpression,
  Super,
  MemberExpression,
  CallExpression,
  NewExpression,
  AssignmentExpression,
  ParenthesizedExpression,
  ChainExpression,
}

-- THE BASE OF A NODE

-- The parts of a node's base: a name has its own, a member its object's and its property's, a call its
-- callee's, an assignment those of a simple left side, and most nodes have none.
abbrev mutual
  pub parts : Tree → List Text
  parts (node Identifier l fs) = first_text l.texts ∷ []
  parts (node PrivateIdentifier l fs) = first_text l.texts ∷ []
  parts (node ThisExpression l fs) = codes "this" ∷ []
  parts (node Super l fs) = codes "super" ∷ []
  parts (node MemberExpression l fs) = first_parts fs ++ second_parts fs
  parts (node CallExpression l fs) = first_parts fs
  parts (node NewExpression l fs) = first_parts fs
  parts (node AssignmentExpression l fs) = first_parts fs
  parts (node ParenthesizedExpression l fs) = first_parts fs
  parts (node ChainExpression l fs) = first_parts fs
  parts (node _ l fs) = []

  pub first_parts : Fields → List Text
  first_parts done = []
  first_parts (f then fs) = field_parts f

  pub second_parts : Fields → List Text
  second_parts done = []
  second_parts (f then fs) = first_parts fs

  pub field_parts : Field → List Text
  field_parts missing = []
  field_parts (one t) = parts t
  field_parts (many ts) = []
  field_parts (statements ts) = []

-- the parts with `$` between
abbrev pub joined : List Text → Text
joined [] = []
joined (p ∷ []) = p
joined (p ∷ q ∷ ps) = p ++ codes "$" ++ joined (q ∷ ps)

abbrev pub is_underscore : ℕ → Bool
is_underscore c = c == 95

abbrev pub without_underscores : Text → Text
without_underscores [] = []
without_underscores (c ∷ cs) = if is_underscore c then without_underscores cs else c ∷ cs

-- a byte of a character that isn't its first (UTF-8)
abbrev pub is_continuation : ℕ → Bool
is_continuation c = nat_le 128 c && nat_le c 191

-- at most the first n characters
abbrev pub first_characters : ℕ → Text → Text
first_characters n [] = []
first_characters zero (c ∷ cs) = if is_continuation c then c ∷ first_characters zero cs else []
first_characters (suc n) (c ∷ cs) = if is_continuation c then c ∷ first_characters (suc n) cs else c ∷ first_characters n cs

abbrev pub is_digit : ℕ → Bool
is_digit c = nat_le 48 c && nat_le c 57

abbrev pub dropped_digits : Text → Text
dropped_digits [] = []
dropped_digits (c ∷ cs) = if is_digit c then dropped_digits cs else c ∷ cs

abbrev pub without_last_digits : Text → Text
without_last_digits t = reverse (dropped_digits (reverse t))

abbrev pub or_ref : Text → Text
or_ref [] = codes "ref"
or_ref (c ∷ cs) = c ∷ cs

-- the base that a text gives
abbrev pub text_base : Text → Text
text_base t = or_ref (without_last_digits (without_underscores t))

-- the most characters that the base of a node keeps
abbrev pub longest_base : ℕ
longest_base = 20

-- the base that a node gives
abbrev pub node_base : Tree → Text
node_base t = or_ref (without_last_digits (first_characters longest_base (without_underscores (joined (parts t)))))

-- CANDIDATES

-- `_b`, `_b2`, `_b3` and so on
abbrev pub candidate : Text → ℕ → Text
candidate b zero = codes "_" ++ b
candidate b (suc n) = codes "_" ++ b ++ decimal (n + 2)

-- whether a name is among these
abbrev pub is_among : List Text → Text → Bool
is_among names x = list_any (λ y. bytes_eq y x) names

-- x is the first candidate of the base that is not in use
pub record IsFreshName (in_use : Text → Bool) (base x : Text) : Type 0 where
  pub number : ℕ
  pub name : x ≡ candidate base number
  pub free : in_use x ≡ false
  pub first : (m : ℕ) → m < number → in_use (candidate base m) ≡ true

-- a name more is in use
abbrev pub also : Text → (Text → Bool) → Text → Bool
also x in_use y = in_use y || bytes_eq x y
