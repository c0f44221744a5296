-- Rows of the core lowerings at expressions: private members, `super`, calls in a row, callees and `delete` among them. `x` is a
-- bound name that is written somewhere, `s` one that nothing writes, and all other names are unbound.
use Rattle.std.specs.Prelude.{ℕ, ◌==◌, List, [], ◌∷◌, Bool, true, false, Some, codes}
use Rattle.es_tree.specs.Words.{Text}
use Rattle.es_tree.specs.Fresh.{is_among}
use Rattle.es_tree.specs.Tree.{Tree, node, done, ◌then◌, one, many, trees}
use Rattle.es_tree.specs.declared.ast_type.AstType.TheVariants.{AssignmentExpression, CallExpression, ChainExpression, MemberExpression, ParenthesizedExpression, PrivateIdentifier, SequenceExpression, Super, UnaryExpression}
use Rattle.es_runs.specs.Alike.{the_value, the_callee}
use Rattle.es_runs.specs.OptionalChaining.{delete_node, this_node, true_node}
use Rattle.es_runs.specs.Rules.{assign_node, binary_node, conditional_node, logical_node, member_node, null_node, void_zero_node}
use Rattle.es_runs.specs.Exponentiation.{string_node}
use Rattle.es_resolution.specs.Declarations.{Bound}
use Rattle.es_steps.specs.Exponentiation.{ExponentiationRule, power_node}
use Rattle.es_steps.specs.LogicalAssignment.{LogicalAssignmentRule}
use Rattle.es_steps.specs.Nodes.{made, identifier, word}
use Rattle.es_steps.specs.NullishCoalescing.{NullishCoalescingRule}
use Rattle.es_steps.specs.OptionalChaining.{OptionalChainingRule}
use Rattle.es_steps.specs.Steps.{Whole, Site, the_program}

-- NODES

abbrev pub temporary : Text → ℕ → Bound
temporary t s = record { name = t; symbol = Some s }

abbrev pub x : Tree
x = identifier (temporary (codes "x") 1)

abbrev pub s : Tree
s = identifier (temporary (codes "s") 0)

abbrev pub private_name : Text → Tree
private_name t = node PrivateIdentifier (made (Some t ∷ []) []) done

abbrev pub super_node : Tree
super_node = node Super (made [] []) done

-- `o.p` and `o?.p`
abbrev pub member : Bool → Tree → Tree → Tree
member marked o p = node MemberExpression (made [] (false ∷ marked ∷ [])) (one o then one p then done)

abbrev pub call : Bool → Tree → List Tree → Tree
call marked f arguments = node CallExpression (made [] (marked ∷ [])) (one f then many (trees arguments) then done)

abbrev pub chain : Tree → Tree
chain e = node ChainExpression (made [] []) (one e then done)

abbrev pub in_parens : Tree → Tree
in_parens e = node ParenthesizedExpression (made [] []) (one e then done)

-- `t op r` as an assignment
abbrev pub assigned : Text → Tree → Tree → Tree
assigned op t r = node AssignmentExpression (made (Some op ∷ []) []) (one t then one r then done)

-- `e === null || again === void 0`
abbrev pub is_nullish : Tree → Tree → Tree
is_nullish e again = logical_node (codes "||") (binary_node (codes "===") e null_node) (binary_node (codes "===") again void_zero_node)

abbrev pub stored : Bound → Tree → Tree
stored b e = assign_node (identifier b) e

abbrev pub in_a_row : List Tree → Tree
in_a_row es = node SequenceExpression (made [] []) (many (trees es) then done)

-- PLACES

abbrev pub used_names : List Text
used_names = codes "x" ∷ codes "s" ∷ codes "a" ∷ codes "b" ∷ codes "o" ∷ codes "e" ∷ codes "y" ∷ codes "Math" ∷ []

abbrev pub is_first : ℕ → Bool
is_first m = m == 0

abbrev pub whole : Whole
whole = record { in_use = is_among used_names; steady = is_first; free_symbol = 2; called = λ m. []; made = [] }

-- where the value is taken, and where a callee is
abbrev pub a_value : Site
a_value = record the_program { need = the_value }

abbrev pub a_callee : Site
a_callee = record the_program { need = the_callee false }

abbrev pub a : Tree
a = word (codes "a")

abbrev pub b : Tree
b = word (codes "b")

abbrev pub o : Tree
o = word (codes "o")

abbrev pub y : Tree
y = word (codes "y")

abbrev pub Chains : Site → List Bound → Tree → Tree → Type 0
Chains n bs t u = OptionalChainingRule false n whole bs t u

abbrev pub Assigns : List Bound → Tree → Tree → Type 0
Assigns bs t u = LogicalAssignmentRule a_value whole bs t u

abbrev pub Raises : List Bound → Tree → Tree → Type 0
Raises bs t u = ExponentiationRule a_value whole bs t u

abbrev pub the_a : Bound
the_a = temporary (codes "_a") 2

abbrev pub the_o : Bound
the_o = temporary (codes "_o") 2

pub record RowExamples : Type 0 where
  -- `s ?? a` and `x ?? a`
  pub steady_name : NullishCoalescingRule a_value whole [] (logical_node (codes "??") s a) (conditional_node (logical_node (codes "&&") (binary_node (codes "!==") s null_node) (binary_node (codes "!==") s void_zero_node)) s a)
  pub written_name : let c = temporary (codes "_x") 2 in NullishCoalescingRule a_value whole (c ∷ []) (logical_node (codes "??") x a) (conditional_node (logical_node (codes "&&") (binary_node (codes "!==") (stored c x) null_node) (binary_node (codes "!==") (identifier c) void_zero_node)) (identifier c) a)
  -- `a?.b` and `x?.#p`: a bound name is tested as it is
  pub unbound_object : Chains a_value (the_a ∷ []) (chain (member true a b)) (conditional_node (is_nullish (stored the_a a) (identifier the_a)) void_zero_node (member false (identifier the_a) b))
  pub private_chain : Chains a_value [] (chain (member true x (private_name (codes "p")))) (conditional_node (is_nullish x x) void_zero_node (member false x (private_name (codes "p"))))
  -- `o.b?.(y)`: the callee is stored, and its receiver
  pub marked_method : let c = temporary (codes "_o$b") 2 in let r = temporary (codes "_o") 3 in Chains a_value (c ∷ r ∷ []) (chain (call true (member false o b) (y ∷ []))) (conditional_node (is_nullish (stored c (member false (stored r o) b)) (identifier c)) void_zero_node (call false (member_node false (identifier c) (word (codes "call"))) (identifier r ∷ y ∷ [])))
  -- `super.b?.()`
  pub super_method : let c = temporary (codes "_super$b") 2 in Chains a_value (c ∷ []) (chain (call true (member false super_node b) [])) (conditional_node (is_nullish (stored c (member false super_node b)) (identifier c)) void_zero_node (call false (member_node false (identifier c) (word (codes "call"))) (this_node ∷ [])))
  -- `delete a?.b`
  pub deleted : Chains a_value (the_a ∷ []) (node UnaryExpression (made (Some (codes "delete") ∷ []) []) (one (in_parens (chain (member true a b))) then done)) (conditional_node (is_nullish (stored the_a a) (identifier the_a)) true_node (delete_node (member false (identifier the_a) b)))
  -- the callee of `a?.b()`, in parentheses
  pub bound_callee : Chains a_callee (the_a ∷ []) (chain (member true a b)) (conditional_node (is_nullish (stored the_a a) (identifier the_a)) void_zero_node (call false (member_node false (member false (identifier the_a) b) (word (codes "bind"))) (identifier the_a ∷ [])))
  -- `x ??= y`, `super.b ??= y` and `o.b ||= y`
  pub to_a_name : Assigns [] (assigned (codes "??=") x y) (logical_node (codes "??") x (assign_node x y))
  pub to_super : Assigns [] (assigned (codes "??=") (member false super_node b) y) (logical_node (codes "??") (member false super_node b) (assign_node (member false super_node b) y))
  pub to_member : Assigns (the_o ∷ []) (assigned (codes "||=") (in_parens (member false o b)) y) (logical_node (codes "||") (member false (stored the_o o) b) (assign_node (member false (identifier the_o) b) y))
  -- one to a private member is no place
  pub to_private : (bs : List Bound) (u : Tree) → Assigns bs (assigned (codes "||=") (member false o (private_name (codes "p"))) y) u → ⊥
  -- `o.#p **= y`, `super.b **= y` and `x **= y`
  pub private_power : Raises (the_o ∷ []) (assigned (codes "**=") (member false o (private_name (codes "p"))) y) (in_a_row (stored the_o o ∷ assign_node (member false (identifier the_o) (private_name (codes "p"))) (power_node (member false (identifier the_o) (private_name (codes "p"))) y) ∷ []))
  pub super_power : Raises [] (assigned (codes "**=") (member false super_node b) y) (assign_node (member_node true super_node (string_node (codes "b"))) (power_node (member_node true super_node (string_node (codes "b"))) y))
  pub name_power : Raises [] (assigned (codes "**=") x y) (assign_node x (power_node x y))

-- these rows hold
abbrev pub LawRowExamples : Type 0
LawRowExamples = RowExamples
