-- Which kinds may stand where an expression stands: wherever a construct of a row may, every expression may.
use Rattle.std.proofs.Common.{◌≡◌, refl, ap, ◌∙◌, List, [], ◌∷◌, ◌++◌}
use Rattle.std.specs.Prelude.{Bool, true, false, not, ◌&&◌, ◌||◌, if◌then◌else◌}
use Rattle.std.specs.List.{list_all, list_any}
use Rattle.es_tree.specs.HasForm.{has_form, is_of_sort, same_type}
use Rattle.es_tree.specs.Table.{kinds_of, own_kinds, takes_expressions}
use Rattle.es_tree.specs.Tree.{Tree, node, Label, Fields}
use Rattle.es_tree.specs.declared.ast_type.AstType.{AstType}
use Rattle.es_tree.specs.declared.ast_type.AstType.TheVariants.{AssignmentExpression, BinaryExpression, ChainExpression, LogicalExpression, UnaryExpression}
use Rattle.es_tree.specs.declared.table.Sort.{Sort}
use Rattle.es_tree.specs.declared.table.Sort.TheVariants.{Program as s-Program, Expression as s-Expression}
use Rattle.es_tree.proofs.NodeForm.{node_form, has_form-node}

-- the kinds of the nodes on which rows act
abbrev pub row_kinds : List AstType
row_kinds = AssignmentExpression ∷ BinaryExpression ∷ ChainExpression ∷ LogicalExpression ∷ UnaryExpression ∷ []

abbrev is_wide_for : Sort → AstType → Bool
is_wide_for s k = not (is_of_sort s k) || takes_expressions s

-- no sort names such a kind by itself
all-wide : (s : Sort) → list_all (is_wide_for s) row_kinds ≡ true
all-wide s-Program = refl
all-wide _ = refl

or-first : (a b : Bool) → (not a || b) ≡ true → a ≡ true → b ≡ true
or-first true b e d = e
or-first false b e d = absurd (cc d)

-- the tests of the five kinds, one by one
five : (a b c d e : Bool) → (a && (b && (c && (d && (e && true))))) ≡ true → (a ≡ true) × (b ≡ true) × (c ≡ true) × (d ≡ true) × (e ≡ true)
five true true true true true h = (refl, refl, refl, refl, refl)
five true true true true false h = absurd (cc h)
five true true true false e h = absurd (cc h)
five true true false d e h = absurd (cc h)
five true false c d e h = absurd (cc h)
five false b c d e h = absurd (cc h)

wide : (s : Sort) → (is_wide_for s AssignmentExpression ≡ true) × (is_wide_for s BinaryExpression ≡ true) × (is_wide_for s ChainExpression ≡ true) × (is_wide_for s LogicalExpression ≡ true) × (is_wide_for s UnaryExpression ≡ true)
wide s = five (is_wide_for s AssignmentExpression) (is_wide_for s BinaryExpression) (is_wide_for s ChainExpression) (is_wide_for s LogicalExpression) (is_wide_for s UnaryExpression) (all-wide s)

pub wide-assignment : (s : Sort) → is_of_sort s AssignmentExpression ≡ true → takes_expressions s ≡ true
wide-assignment s = or-first (is_of_sort s AssignmentExpression) (takes_expressions s) (wide s).0

pub wide-binary : (s : Sort) → is_of_sort s BinaryExpression ≡ true → takes_expressions s ≡ true
wide-binary s = or-first (is_of_sort s BinaryExpression) (takes_expressions s) (wide s).1

pub wide-chain : (s : Sort) → is_of_sort s ChainExpression ≡ true → takes_expressions s ≡ true
wide-chain s = or-first (is_of_sort s ChainExpression) (takes_expressions s) (wide s).2

pub wide-logical : (s : Sort) → is_of_sort s LogicalExpression ≡ true → takes_expressions s ≡ true
wide-logical s = or-first (is_of_sort s LogicalExpression) (takes_expressions s) (wide s).3

pub wide-unary : (s : Sort) → is_of_sort s UnaryExpression ≡ true → takes_expressions s ≡ true
wide-unary s = or-first (is_of_sort s UnaryExpression) (takes_expressions s) (wide s).4

any-later : (p : AstType → Bool) (xs ys : List AstType) → list_any p ys ≡ true → list_any p (xs ++ ys) ≡ true
any-later p [] ys e = e
any-later p (x ∷ xs) ys e = at (p x) (any-later p xs ys e)
  where
    at : (b : Bool) → list_any p (xs ++ ys) ≡ true → (b || list_any p (xs ++ ys)) ≡ true
    at true d = refl
    at false d = d

takes-kind : (s : Sort) (k : AstType) → takes_expressions s ≡ true → is_of_sort s-Expression k ≡ true → is_of_sort s k ≡ true
takes-kind s k e d = any-later (same_type k) (own_kinds s) (if takes_expressions s then kinds_of s-Expression else []) (ap (λ b. list_any (same_type k) (if b then kinds_of s-Expression else [])) e ∙ d)

-- what has the form of an expression has form wherever expressions may stand
pub form-wider : (s : Sort) (t : Tree) → takes_expressions s ≡ true → has_form s-Expression t ≡ true → has_form s t ≡ true
form-wider s (node k l fs) e h =
    let n = node_form s-Expression k l fs h in
    has_form-node s k l fs (record { sort = takes-kind s k e n.sort; texts = n.texts; flags = n.flags; start = n.start; stop = n.stop; agree = n.agree; children = n.children })

-- and the other way, where the sort takes expressions and the kind is one
pub form-narrower : (s : Sort) (k : AstType) (l : Label) (fs : Fields) → is_of_sort s-Expression k ≡ true → has_form s (node k l fs) ≡ true → has_form s-Expression (node k l fs) ≡ true
form-narrower s k l fs e h =
    let n = node_form s k l fs h in
    has_form-node s-Expression k l fs (record { sort = e; texts = n.texts; flags = n.flags; start = n.start; stop = n.stop; agree = n.agree; children = n.children })
