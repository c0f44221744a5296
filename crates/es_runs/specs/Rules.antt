-- What the lowerings write, as nodes of the plain tree.
use Rattle.std.specs.Prelude.{◌≡◌, ℕ, zero, suc, ◌&&◌, ◌||◌, not, Bool, true, false, Some, List, [], ◌∷◌, codes}
use Rattle.es_tree.specs.Words.{Text}
use Rattle.es_tree.specs.declared.ast_type.AstType.{AstType}
use Rattle.es_tree.specs.Tree.{Tree, Fields, Field, Trees, Label}
use Rattle.es_tree.specs.declared.ast_type.AstType.TheVariants.{UnaryExpression, BinaryExpression, LogicalExpression, ConditionalExpression, AssignmentExpression, ChainExpression, ParenthesizedExpression, NullLiteral, NumericLiteral, MemberExpression, CallExpression}
use Rattle.es_tree.specs.Tree.{node}
use Rattle.es_tree.specs.Tree.{done, ◌then◌}
use Rattle.es_tree.specs.Tree.{missing, one, many, statements}
use Rattle.es_tree.specs.Tree.{empty, ◌before◌}
use Rattle.es_runs.specs.Core.{flag, flag_after}
use Rattle.es_runs.specs.Alike.{Need, needs}
use Rattle.es_tree.specs.Scopes.{Declared}
use Rattle.es_runs.specs.Runs.{made, identifier}

abbrev pub parenthesized_node : Tree → Tree
parenthesized_node e = node ParenthesizedExpression (made [] []) (one e then done)

abbrev pub null_node : Tree
null_node = node NullLiteral (made [] []) done

abbrev pub void_zero_node : Tree
void_zero_node = node UnaryExpression (made (Some (codes "void") ∷ []) []) (one (node NumericLiteral (made (Some (codes "0") ∷ Some (codes "0") ∷ []) []) done) then done)

abbrev pub binary_node : Text → Tree → Tree → Tree
binary_node op l r = node BinaryExpression (made (Some op ∷ []) []) (one l then one r then done)

abbrev pub logical_node : Text → Tree → Tree → Tree
logical_node op l r = node LogicalExpression (made (Some op ∷ []) []) (one l then one r then done)

abbrev pub assign_node : Tree → Tree → Tree
assign_node l r = node AssignmentExpression (made (Some (codes "=") ∷ []) []) (one l then one r then done)

abbrev pub conditional_node : Tree → Tree → Tree → Tree
conditional_node t a b = node ConditionalExpression (made [] []) (one t then one a then one b then done)

abbrev pub conditional_at : Label → Tree → Tree → Tree → Tree
conditional_at m t a b = node ConditionalExpression m (one t then one a then one b then done)

-- the label of a node that takes the place of another: it has that one's span
abbrev pub in_place_of : Label → Label
in_place_of m = record (made [] []) { start = m.start; stop = m.stop }

-- NULLISH COALESCING

-- `first !== null && again !== void 0 ? again : r`
abbrev pub tested : Label → Tree → Tree → Tree → Tree
tested m begin again r = conditional_at (in_place_of m) (logical_node (codes "&&") (binary_node (codes "!==") begin null_node) (binary_node (codes "!==") again void_zero_node)) again r

-- `(x = l) !== null && x !== void 0 ? x : r`; the parentheses are for reading
abbrev pub tested_by : Label → Text → Tree → Tree → Tree
tested_by m x l r = tested m (assign_node (identifier x) l) (identifier x) r

-- A rule at one place of a tree: all else stays.
mutual
  pub data OnePlace (R : Need → Tree → Tree → Type 0) : Need → Tree → Tree → Type 0 where
    this_place : {n : Need} {a b : Tree} → R n a b → OnePlace R n a b
    below : {n : Need} {k : AstType} {l : Label} {fs gs : Fields} → OneField R (needs n k l.texts l.flags) fs gs → OnePlace R n (node k l fs) (node k l gs)

  pub data OneField (R : Need → Tree → Tree → Type 0) : (ℕ → Need) → Fields → Fields → Type 0 where
    first_field : {c : ℕ → Need} {f g : Field} {fs : Fields} → InField R (c zero) f g → OneField R c (f then fs) (g then fs)
    later_field : {c : ℕ → Need} {f : Field} {fs gs : Fields} → OneField R (λ i. c (suc i)) fs gs → OneField R c (f then fs) (f then gs)

  pub data InField (R : Need → Tree → Tree → Type 0) : Need → Field → Field → Type 0 where
    in_one : {n : Need} {a b : Tree} → OnePlace R n a b → InField R n (one a) (one b)
    in_many : {n : Need} {xs ys : Trees} → OneNode R n xs ys → InField R n (many xs) (many ys)
    in_statements : {n : Need} {xs ys : Trees} → OneNode R n xs ys → InField R n (statements xs) (statements ys)

  pub data OneNode (R : Need → Tree → Tree → Type 0) : Need → Trees → Trees → Type 0 where
    first_node : {n : Need} {a b : Tree} {xs : Trees} → OnePlace R n a b → OneNode R n (a before xs) (b before xs)
    later_node : {n : Need} {a : Tree} {xs ys : Trees} → OneNode R n xs ys → OneNode R n (a before xs) (a before ys)

-- An open program runs with one more cell for the pending declarator of x.
abbrev pub pending : Text → List Declared → List Declared
pending x ds = record { name = x; kind = codes "var" } ∷ ds

-- OPTIONAL MARKS

abbrev pub is_marked : AstType → List Bool → Bool
is_marked MemberExpression fs = flag_after fs
is_marked CallExpression fs = flag fs
is_marked _ fs = false

-- whether the first field stands on a chain's spine, where the node does or not
abbrev pub on_spine : AstType → Bool → Bool
on_spine ChainExpression on = true
on_spine MemberExpression on = on
on_spine CallExpression on = on
on_spine _ on = false

-- whether an optional mark stands on no chain's spine
abbrev mutual
  pub strays : Bool → Tree → Bool
  strays on (node k l fs) = (is_marked k l.flags && not on) || strays_fields (on_spine k on) fs

  pub strays_fields : Bool → Fields → Bool
  strays_fields on done = false
  strays_fields on (f then fs) = strays_field on f || strays_fields false fs

  pub strays_field : Bool → Field → Bool
  strays_field on missing = false
  strays_field on (one n) = strays on n
  strays_field on (many ns) = strays_nodes on ns
  strays_field on (statements ns) = strays_nodes on ns

  pub strays_nodes : Bool → Trees → Bool
  strays_nodes on empty = false
  strays_nodes on (n before ns) = strays on n || strays_nodes on ns

-- no optional mark stands outside a chain (ECMA-262, 13.3: each stands in an optional expression)
abbrev pub IsTidy : Tree → Type 0
IsTidy p = strays false p ≡ false

-- a member at no place of the source
abbrev pub member_node : Bool → Tree → Tree → Tree
member_node computed o p = node MemberExpression (made [] (computed ∷ false ∷ [])) (one o then one p then done)
