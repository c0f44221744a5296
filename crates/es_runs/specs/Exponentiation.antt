-- Exponentiation (ECMA-262, 13.6 and 13.15): `l ** r` becomes `Math.pow(l, r)`, and `t **= r` becomes `t = Math.pow(t, r)`,
-- with what stands in `t` evaluated once, in front. Where a BigInt literal stands directly at a side, nothing is done,
-- since `Math.pow` takes none.
use Rattle.std.specs.Prelude.{◌≡◌, List, [], ◌∷◌, ◌++◌, ◌&&◌, Bool, true, false, Some, codes, not, ◌||◌}
use Rattle.es_runs.specs.Core.{is_spread_kind}
use Rattle.es_tree.specs.declared.ast_type.AstType.{AstType}
use Rattle.es_tree.specs.Words.{Text}
use Rattle.es_tree.specs.Constructs.{is_big_int}
use Rattle.es_tree.specs.Fresh.{IsFreshName, node_base}
use Rattle.es_tree.specs.Names.{first_text}
use Rattle.es_tree.specs.Parens.{without_parens}
use Rattle.es_tree.specs.Tree.{Tree, node, Label, done, ◌then◌, one, many, empty, ◌before◌, trees, kind_of}
use Rattle.es_tree.specs.declared.ast_type.AstType.TheVariants.{AssignmentExpression, BigIntLiteral, BinaryExpression, BooleanLiteral, CallExpression, Identifier, MemberExpression, NullLiteral, NumericLiteral, PrivateIdentifier, SequenceExpression, StringLiteral, Super}
use Rattle.es_runs.specs.Alike.{Need}
use Rattle.es_runs.specs.Duplication.{has_no_fields}
use Rattle.es_runs.specs.Rules.{assign_node, in_place_of, member_node}
use Rattle.es_runs.specs.Runs.{made, identifier}
use Rattle.es_runs.specs.NullishCoalescing.{also_all}

-- MADE NODES

-- `Math.pow(l, r)` in the place of a node
abbrev pub power_at : Label → Tree → Tree → Tree
power_at m l r = node CallExpression (record (in_place_of m) { flags = false ∷ [] }) (one (member_node false (identifier (codes "Math")) (identifier (codes "pow"))) then many (l before r before empty) then done)

-- `Math.pow(l, r)` at no place of the source
abbrev pub power_node : Tree → Tree → Tree
power_node l r = power_at (made [] []) l r

abbrev pub string_node : Text → Tree
string_node t = node StringLiteral (made (Some t ∷ []) []) done

abbrev pub assign_at : Label → Tree → Tree → Tree
assign_at m l r = node AssignmentExpression (record (in_place_of m) { texts = Some (codes "=") ∷ [] }) (one l then one r then done)

-- these assignments, and then `target = Math.pow(read, r)`, in the place of a node
abbrev pub assigned_power : Label → List Tree → Tree → Tree → Tree → Tree
assigned_power m [] target read r = assign_at m target (power_node read r)
assigned_power m (f ∷ fs) target read r = node SequenceExpression (in_place_of m) (many (trees ((f ∷ fs) ++ assign_node target (power_node read r) ∷ [])) then done)

-- TARGETS

-- whether an object stays where it is read: `super`, and a name of these
abbrev pub stays : (Text → Bool) → Tree → Bool
stays names (node Super l fs) = has_no_fields fs
stays names (node Identifier l fs) = names (first_text l.texts) && has_no_fields fs
stays names _ = false

-- the names that an object takes, what goes in front, the object, and what is read for it
pub data Holds (bound in_use : Text → Bool) : List Text → List Tree → Tree → Tree → Type 0 where
  where_it_is : {o : Tree} → stays bound o ≡ true → Holds bound in_use [] [] o o
  in_temporary : {o : Tree} {x : Text} → stays bound o ≡ false → IsFreshName in_use (node_base o) x → Holds bound in_use (x ∷ []) (assign_node (identifier x) o ∷ []) o (identifier x)

-- a key that is written down again
abbrev pub is_literal_key : Tree → Bool
is_literal_key (node NullLiteral l fs) = has_no_fields fs
is_literal_key (node BooleanLiteral l fs) = has_no_fields fs
is_literal_key (node NumericLiteral l fs) = has_no_fields fs
is_literal_key (node BigIntLiteral l fs) = has_no_fields fs
is_literal_key (node StringLiteral l fs) = has_no_fields fs
is_literal_key _ = false

-- no name
abbrev pub no_name : Text → Bool
no_name x = false

-- The names that a target takes, what goes in front, the target, what is written and what is read for it. Where a key is
-- evaluated, no name stays for the object, since the key may write it.
pub data TargetTwice (bound in_use : Text → Bool) : List Text → List Tree → Tree → Tree → Tree → Type 0 where
  bound_name : {l : Label} → bound (first_text l.texts) ≡ true →
      TargetTwice bound in_use [] [] (node Identifier l done) (node Identifier l done) (node Identifier l done)
  other_name : {l : Label} {x : Text} → bound (first_text l.texts) ≡ false → IsFreshName in_use (node_base (node Identifier l done)) x →
      TargetTwice bound in_use (x ∷ []) (assign_node (identifier x) (node Identifier l done) ∷ []) (node Identifier l done) (node Identifier l done) (identifier x)
  static_member : {l k : Label} {o o' : Tree} {xs : List Text} {fs : List Tree} → l.flags ≡ false ∷ false ∷ [] → Holds bound in_use xs fs o o' →
      TargetTwice bound in_use xs fs (node MemberExpression l (one o then one (node Identifier k done) then done)) (member_node true o' (string_node (first_text k.texts))) (member_node true o' (string_node (first_text k.texts)))
  private_member : {l k : Label} {o o' : Tree} {xs : List Text} {fs : List Tree} → l.flags ≡ false ∷ false ∷ [] → Holds bound in_use xs fs o o' →
      TargetTwice bound in_use xs fs (node MemberExpression l (one o then one (node PrivateIdentifier k done) then done)) (member_node false o' (node PrivateIdentifier k done)) (member_node false o' (node PrivateIdentifier k done))
  literal_key : {l : Label} {o o' k : Tree} {xs : List Text} {fs : List Tree} → l.flags ≡ true ∷ false ∷ [] → is_literal_key k ≡ true → Holds bound in_use xs fs o o' →
      TargetTwice bound in_use xs fs (node MemberExpression l (one o then one k then done)) (member_node true o' k) (member_node true o' k)
  other_key : {l : Label} {o o' k : Tree} {xs : List Text} {fs : List Tree} {y : Text} → l.flags ≡ true ∷ false ∷ [] → is_literal_key k ≡ false → Holds no_name in_use xs fs o o' → IsFreshName (also_all xs in_use) (node_base k) y →
      TargetTwice bound in_use (xs ++ y ∷ []) (fs ++ assign_node (identifier y) k ∷ []) (node MemberExpression l (one o then one k then done)) (member_node true o' (identifier y)) (member_node true o' (identifier y))

-- THE ROWS

pub data ExponentiationRule (bound in_use : Text → Bool) : List Text → Need → Tree → Tree → Type 0 where
  power : {n : Need} {m : Label} {l r : Tree} → m.texts ≡ Some (codes "**") ∷ [] → is_big_int (kind_of l) ≡ false → is_big_int (kind_of r) ≡ false →
      ExponentiationRule bound in_use [] n (node BinaryExpression m (one l then one r then done)) (power_at m l r)
  power_assignment : {n : Need} {m : Label} {t r target read : Tree} {xs : List Text} {fs : List Tree} → m.texts ≡ Some (codes "**=") ∷ [] → is_big_int (kind_of r) ≡ false →
      TargetTwice bound in_use xs fs (without_parens t) target read →
      ExponentiationRule bound in_use xs n (node AssignmentExpression m (one t then one r then done)) (assigned_power m fs target read r)

-- WHERE A ROW STANDS in programs without classes

abbrev pub is_super_kind : AstType → Bool
is_super_kind Super = true
is_super_kind _ = false

abbrev pub is_private_kind : AstType → Bool
is_private_kind PrivateIdentifier = true
is_private_kind _ = false

-- a target other than a member of `super` or by a private name, which stand in classes alone
abbrev pub is_classless : Tree → Bool
is_classless (node MemberExpression l (one o then (one k then done))) = not (is_super_kind (kind_of o) || is_private_kind (kind_of k))
is_classless _ = true

-- a node that assigns to no member of `super` and none by a private name, and whose sides are no spreads
abbrev pub is_raisable : Tree → Bool
is_raisable (node AssignmentExpression l (one t then (one r then fs))) = is_classless (without_parens t) && not (is_spread_kind (kind_of r))
is_raisable (node BinaryExpression m (one l then (one r then fs))) = not (is_spread_kind (kind_of l) || is_spread_kind (kind_of r))
is_raisable _ = true
