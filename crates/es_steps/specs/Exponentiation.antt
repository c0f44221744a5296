-- Exponentiation (ECMA-262, 13.6 and 13.15): `l ** r` becomes `Math.pow(l, r)`, and `o().p **= r` becomes
-- `_o = o(), _o["p"] = Math.pow(_o["p"], r)`, with what stands in the target evaluated once, in front. Where a BigInt literal
-- stands directly at a side nothing is done, since `Math.pow` takes none, nor where the name `Math` is bound.
use Rattle.std.specs.Prelude.{◌≡◌, ℕ, List, [], ◌∷◌, ◌++◌, ◌&&◌, Bool, true, false, Option, Some, None, codes, is_some}
use Rattle.es_tree.specs.Constructs.{is_big_int}
use Rattle.es_tree.specs.Fresh.{node_base}
use Rattle.es_tree.specs.Names.{first_text}
use Rattle.es_tree.specs.Parens.{without_parens}
use Rattle.es_tree.specs.Tree.{Tree, node, Label, done, ◌then◌, one, many, empty, ◌before◌, trees, kind_of}
use Rattle.es_tree.specs.declared.ast_type.AstType.TheVariants.{AssignmentExpression, BinaryExpression, CallExpression, Identifier, MemberExpression, PrivateIdentifier, SequenceExpression, Super}
use Rattle.es_runs.specs.Duplication.{has_no_fields}
use Rattle.es_runs.specs.Exponentiation.{assign_at, is_literal_key, string_node}
use Rattle.es_runs.specs.Rules.{assign_node, in_place_of, member_node}
use Rattle.es_resolution.specs.Declarations.{Bound, symbol_of}
use Rattle.es_steps.specs.Duplication.{IsNext, is_alone, no_symbol}
use Rattle.es_steps.specs.Nodes.{made, identifier, word}
use Rattle.es_steps.specs.Rules.{with_made}
use Rattle.es_steps.specs.Steps.{Whole, Site}

-- MADE NODES

-- `Math.pow(l, r)` in the place of a node; `Math` refers to no binding
abbrev pub power_at : Label → Tree → Tree → Tree
power_at m l r = node CallExpression (record (in_place_of m) { flags = false ∷ [] }) (one (member_node false (word (codes "Math")) (word (codes "pow"))) then many (l before r before empty) then done)

-- `Math.pow(l, r)` at no place of the source
abbrev pub power_node : Tree → Tree → Tree
power_node l r = power_at (made [] []) l r

-- these assignments, and then `target = Math.pow(read, r)`, in the place of a node
abbrev pub assigned_power : Label → List Tree → Tree → Tree → Tree → Tree
assigned_power m [] target read r = assign_at m target (power_node read r)
assigned_power m (f ∷ fs) target read r = node SequenceExpression (in_place_of m) (many (trees ((f ∷ fs) ++ assign_node target (power_node read r) ∷ [])) then done)

-- TARGETS

-- whether an object stays where it is read: `super`, and a name of these symbols
abbrev pub stays : (Option ℕ → Bool) → Tree → Bool
stays names (node Super l fs) = has_no_fields fs
stays names (node Identifier l fs) = names (symbol_of l) && has_no_fields fs
stays names _ = false

-- the temporaries that an object takes, what goes in front, the object, and what is read for it
pub data Holds (names : Option ℕ → Bool) (w : Whole) : List Bound → List Tree → Tree → Tree → Type 0 where
  where_it_is : {o : Tree} → stays names o ≡ true → Holds names w [] [] o o
  in_temporary : {o : Tree} {x : Bound} → stays names o ≡ false → IsNext w (node_base o) x → Holds names w (x ∷ []) (assign_node (identifier x) o ∷ []) o (identifier x)

-- The temporaries that a target takes, what goes in front, the target, what is written and what is read for it. A bound name
-- stays. Where a key is evaluated no name stays for the object, since the key may write it.
pub data TargetTwice (w : Whole) : List Bound → List Tree → Tree → Tree → Tree → Type 0 where
  bound_name : {l : Label} → is_some (symbol_of l) ≡ true →
      TargetTwice w [] [] (node Identifier l done) (node Identifier l done) (node Identifier l done)
  other_name : {l : Label} {x : Bound} → is_some (symbol_of l) ≡ false → IsNext w (node_base (node Identifier l done)) x →
      TargetTwice w (x ∷ []) (assign_node (identifier x) (node Identifier l done) ∷ []) (node Identifier l done) (node Identifier l done) (identifier x)
  static_member : {l k : Label} {o o' : Tree} {xs : List Bound} {fs : List Tree} → l.flags ≡ false ∷ false ∷ [] → Holds is_some w xs fs o o' →
      TargetTwice w xs fs (node MemberExpression l (one o then one (node Identifier k done) then done)) (member_node true o' (string_node (first_text k.texts))) (member_node true o' (string_node (first_text k.texts)))
  private_member : {l k : Label} {o o' : Tree} {xs : List Bound} {fs : List Tree} → l.flags ≡ false ∷ false ∷ [] → Holds is_some w xs fs o o' →
      TargetTwice w xs fs (node MemberExpression l (one o then one (node PrivateIdentifier k done) then done)) (member_node false o' (node PrivateIdentifier k done)) (member_node false o' (node PrivateIdentifier k done))
  literal_key : {l : Label} {o o' k : Tree} {xs : List Bound} {fs : List Tree} → l.flags ≡ true ∷ false ∷ [] → is_literal_key k ≡ true → Holds is_some w xs fs o o' →
      TargetTwice w xs fs (node MemberExpression l (one o then one k then done)) (member_node true o' k) (member_node true o' k)
  other_key : {l : Label} {o o' k : Tree} {xs : List Bound} {fs : List Tree} {y : Bound} → l.flags ≡ true ∷ false ∷ [] → is_literal_key k ≡ false → Holds no_symbol w xs fs o o' → IsNext (with_made xs w) (node_base k) y →
      TargetTwice w (xs ++ y ∷ []) (fs ++ assign_node (identifier y) k ∷ []) (node MemberExpression l (one o then one k then done)) (member_node true o' (identifier y)) (member_node true o' (identifier y))

-- THE ROWS

-- `Math` finds no binding from here, and is in use, so that no temporary is called so
pub record IsMathFree (n : Site) (w : Whole) : Type 0 where
  pub unbound : n.names.scope (codes "Math") ≡ None
  pub in_use : w.in_use (codes "Math") ≡ true

pub data ExponentiationRule (n : Site) (w : Whole) : List Bound → Tree → Tree → Type 0 where
  power : {m : Label} {l r : Tree} → IsMathFree n w → m.texts ≡ Some (codes "**") ∷ [] → is_big_int (kind_of l) ≡ false → is_big_int (kind_of r) ≡ false →
      ExponentiationRule n w [] (node BinaryExpression m (one l then one r then done)) (power_at m l r)
  power_assignment : {m : Label} {t r target read : Tree} {xs : List Bound} {fs : List Tree} → IsMathFree n w → m.texts ≡ Some (codes "**=") ∷ [] → is_big_int (kind_of r) ≡ false →
      is_alone t ≡ true → TargetTwice w xs fs (without_parens t) target read →
      ExponentiationRule n w xs (node AssignmentExpression m (one t then one r then done)) (assigned_power m fs target read r)
