-- The form of what a row makes, from the form of its parts.
use Rattle.std.proofs.Common.{◌≡◌, ◌<◌, ◌^◌, ◌==◌, length, refl, List, [], ◌∷◌, arith}
use Rattle.std.specs.Prelude.{Bool, true, false, ◌&&◌, Option, Some, codes}
use Rattle.es_tree.specs.Attributes.{text_entries, texts_fit}
use Rattle.es_tree.specs.HasForm.{has_form}
use Rattle.es_tree.specs.Parens.{without_parens}
use Rattle.es_tree.specs.Table.{takes_expressions}
use Rattle.es_tree.specs.Tree.{Tree, node, Label, Fields, done, ◌then◌, one}
use Rattle.es_tree.specs.Words.{Text}
use Rattle.es_tree.specs.declared.ast_type.AstType.{AstType}
use Rattle.es_tree.specs.declared.ast_type.AstType.TheVariants.{AssignmentExpression, ConditionalExpression, LogicalExpression, ParenthesizedExpression}
use Rattle.es_tree.specs.declared.table.Sort.{Sort}
use Rattle.es_tree.specs.declared.table.Sort.TheVariants.{AssignmentTarget as s-AssignmentTarget, Expression as s-Expression}
use Rattle.es_tree.proofs.NodeForm.{node_form, has_form-node}
use Rattle.es_runs.specs.Rules.{assign_node, binary_node, in_place_of, logical_node, null_node, tested, void_zero_node}
use Rattle.es_resolution.specs.Declarations.{Bound}
use Rattle.es_steps.specs.Nodes.{made, identifier}
use Rattle.es_steps.proofs.FormSorts.{form-wider}

-- an expression that has form
abbrev pub IsFormed : Tree → Type 0
IsFormed t = has_form s-Expression t ≡ true

-- a span that fits its place
pub record HasSpan (m : Label) : Type 0 where
  pub start : m.start < 2 ^ 32
  pub stop : m.stop < 2 ^ 32

pub span-of : (s : Sort) (k : AstType) (l : Label) (fs : Fields) → has_form s (node k l fs) ≡ true → HasSpan l
span-of s k l fs h = let n = node_form s k l fs h in record { start = n.start; stop = n.stop }

pub no-span : (ts : List (Option Text)) (fs : List Bool) → HasSpan (made ts fs)
no-span ts fs = record { start = omega arith; stop = omega arith }

-- a name that isn't empty
abbrev pub IsText : Bound → Type 0
IsText b = (length b.name == 0) ≡ false

-- NODES, each in the place of a label

pub formed-name : (b : Bound) → IsText b → IsFormed (identifier b)
formed-name b e = rw e refl

pub formed-conditional : (m : Label) (a b c : Tree) → HasSpan m → IsFormed a → IsFormed b → IsFormed c → IsFormed (node ConditionalExpression (in_place_of m) (one a then one b then one c then done))
formed-conditional m a b c s ha hb hc = has_form-node s-Expression ConditionalExpression (in_place_of m) (one a then one b then one c then done) (record { sort = refl; texts = refl; flags = refl; start = s.start; stop = s.stop; agree = refl; children = rw (ha, hb, hc) refl })

pub formed-logical : (m : Label) (op : Text) (a b : Tree) → HasSpan m → texts_fit (text_entries LogicalExpression) (Some op ∷ []) ≡ true → IsFormed a → IsFormed b → IsFormed (node LogicalExpression (record (in_place_of m) { texts = Some op ∷ [] }) (one a then one b then done))
formed-logical m op a b s ok ha hb = has_form-node s-Expression LogicalExpression (record (in_place_of m) { texts = Some op ∷ [] }) (one a then one b then done) (record { sort = refl; texts = ok; flags = refl; start = s.start; stop = s.stop; agree = refl; children = rw (ha, hb) refl })

pub formed-assignment : (m : Label) (a b : Tree) → HasSpan m → IsFormed a → IsFormed b → IsFormed (node AssignmentExpression (record (in_place_of m) { texts = Some (codes "=") ∷ [] }) (one a then one b then done))
formed-assignment m a b s ha hb = has_form-node s-Expression AssignmentExpression (record (in_place_of m) { texts = Some (codes "=") ∷ [] }) (one a then one b then done) (record { sort = refl; texts = refl; flags = refl; start = s.start; stop = s.stop; agree = refl; children = rw (form-wider s-AssignmentTarget a refl ha, hb) refl })

pub formed-stored : (b : Bound) (a : Tree) → IsText b → IsFormed a → IsFormed (assign_node (identifier b) a)
formed-stored b a e h = formed-assignment (made [] []) (identifier b) a (no-span [] []) (formed-name b e) h

-- `begin !== null && again !== void 0 ? again : e`
pub formed-tested : (m : Label) (begin again e : Tree) → HasSpan m → IsFormed begin → IsFormed again → IsFormed e → IsFormed (tested m begin again e)
formed-tested m begin again e s hb ha he = formed-conditional m (logical_node (codes "&&") (binary_node (codes "!==") begin null_node) (binary_node (codes "!==") again void_zero_node)) again e s (rw (hb, ha) refl) ha he

-- what is left of a conjunction
pub and-left : (b c : Bool) → (b && c) ≡ true → b ≡ true
and-left true c e = refl
and-left false c e = absurd (cc e)

pub and-right : (b c : Bool) → (b && c) ≡ true → c ≡ true
and-right true c e = e
and-right false c e = absurd (cc e)

-- through parentheses
pub formed-bare : (s : Sort) (t : Tree) → takes_expressions s ≡ true → has_form s t ≡ true → has_form s (without_parens t) ≡ true
formed-bare s (node ParenthesizedExpression l (one t then done)) e h = formed-bare s t e (form-wider s t e (and-left (has_form s-Expression t) true (node_form s ParenthesizedExpression l (one t then done) h).children))
formed-bare s (node ParenthesizedExpression l (one t then (f then fs))) e h = absurd (cc (and-right (has_form s-Expression t) false (node_form s ParenthesizedExpression l (one t then (f then fs)) h).children))
formed-bare s t e h = h
