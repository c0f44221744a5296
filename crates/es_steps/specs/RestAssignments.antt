-- An object rest in an assignment (ECMA-262, 13.15.5) is taken by a helper: `x = ({ a, ...b } = c)` becomes
-- `x = (_c = c, { a } = _c, b = babelHelpers.objectWithoutProperties(_c, ["a"]), _c)`. A key that is read is read once, where it stood:
-- `({ a, [k()]: b, ...d } = c);` becomes `(_c = c, { a } = _c, _k = k(), { [_k]: b } = _c,
-- d = babelHelpers.objectWithoutProperties(_c, ["a", _k].map(babelHelpers.toPropertyKey)));`, where the value isn't used. A rest that stands alone takes
-- no pattern: `({ ...b } = c);` becomes `(_c = c, b = babelHelpers.extends({}, (babelHelpers.objectDestructuringEmpty(_c), _c)));`.
use Rattle.std.specs.Prelude.{◌≡◌, ◌&&◌, ◌||◌, Bool, true, false, List, [], ◌∷◌, ◌++◌, Some, None, codes, if◌then◌else◌}
use Rattle.es_tree.specs.Ancestors.{Ancestor, leads_by}
use Rattle.es_tree.specs.CoreStaticRules.{is_simple_target}
use Rattle.es_tree.specs.Fresh.{node_base}
use Rattle.es_tree.specs.Names.{has_computed}
use Rattle.es_tree.specs.Parens.{without_parens}
use Rattle.es_tree.specs.Tree.{Tree, node, Label, done, ◌then◌, one, many, Trees, empty, ◌before◌, kind_of, trees}
use Rattle.es_tree.specs.declared.ast_type.AstType.TheVariants.{AssignmentExpression, ExpressionStatement, ObjectTarget, ParenthesizedExpression, TargetProperty, TargetRest}
use Rattle.es_tree.specs.PropertyKeys.{is_read_key, key_text}
use Rattle.es_resolution.specs.Declarations.{Bound}
use Rattle.es_semantic.specs.RolesOf.{reads}
use Rattle.es_steps.specs.Duplication.{IsNext}
use Rattle.es_steps.specs.Nodes.{assign_node, identifier, made, placed, sequence_node, string_node}
use Rattle.es_steps.specs.ObjectRest.{left_of, whole_value}
use Rattle.es_steps.specs.Patterns.{IsSilent}
use Rattle.es_steps.specs.Rules.{with_made}
use Rattle.es_steps.specs.Steps.{Whole, Site}
use Rattle.es_steps.specs.WrapRule.{is_member_target}

-- VALUES of a rest

-- GROUPS of properties: one whose key is read begins one

abbrev pub property_target : Label → Tree → Tree → Tree
property_target l k v = node TargetProperty l (one k then one v then done)

abbrev pub rest_target : Label → Tree → Tree
rest_target l t = node TargetRest l (one t then done)

-- `{ A.. }`
abbrev pub object_target : Label → List Tree → Tree
object_target l ps = node ObjectTarget l (many (trees ps) then done)

-- What comes for the rest of a pattern, where `read` says whether a key was read, these properties stand in the group so far, and these keys are left
-- out: the names that keys take, and the assignments. Of `a, [k]: b, c, ...r` they are
-- `{ a } = s, x = k, { [x]: b, c } = s, r = objectWithoutProperties(s, ["a", x, "c"].map(toPropertyKey))`. The last group keeps the label of the pattern. A rest
-- is assigned to a name or a member (13.15.5.1).
pub data Groups (s : Tree) (lp : Label) : Whole → Bool → List Tree → List Tree → Trees → List Bound → List Tree → Type 0 where
  ends : {w : Whole} {read : Bool} {before_it keys : List Tree} {l : Label} {t : Tree} → is_simple_target (kind_of (without_parens t)) ≡ true →
      Groups s lp w read before_it keys (rest_target l t before empty) [] (assign_node (object_target lp before_it) s ∷ assign_node t (left_of read s keys) ∷ [])
  keeps : {w : Whole} {read : Bool} {before_it keys : List Tree} {l : Label} {k v : Tree} {ps : Trees} {xs : List Bound} {us : List Tree} → is_read_key (has_computed TargetProperty l.flags) k ≡ false →
      Groups s lp w read (before_it ++ property_target l k v ∷ []) (keys ++ string_node (key_text k) ∷ []) ps xs us → Groups s lp w read before_it keys (property_target l k v before ps) xs us
  begins : {w : Whole} {read : Bool} {before_it keys : List Tree} {l : Label} {k v : Tree} {ps : Trees} {x : Bound} {xs : List Bound} {us : List Tree} → is_read_key (has_computed TargetProperty l.flags) k ≡ true → IsNext w (node_base k) x →
      Groups s lp (with_made (x ∷ []) w) true (property_target l (identifier x) v ∷ []) (keys ++ identifier x ∷ []) ps xs us →
      Groups s lp w read before_it keys (property_target l k v before ps) (x ∷ xs) (assign_node (object_target (made [] []) before_it) s ∷ assign_node (identifier x) k ∷ us)

-- of a rest alone; a member is evaluated once `{} = s` has thrown where the source is null or undefined
abbrev pub whole_assigned : Tree → Tree → List Tree
whole_assigned s t = if is_member_target (one t) then assign_node (object_target (made [] []) []) s ∷ assign_node t (whole_value s) ∷ [] else assign_node t (whole_value s) ∷ []

-- THE PATTERN of these properties: the names that its keys take, and the assignments that come for it
pub data TakesTarget (s : Tree) (lp : Label) (w : Whole) : Trees → List Bound → List Tree → Type 0 where
  alone : {l : Label} {t : Tree} → is_simple_target (kind_of (without_parens t)) ≡ true → TakesTarget s lp w (rest_target l t before empty) [] (whole_assigned s t)
  beside : {l : Label} {k v : Tree} {ps : Trees} {xs : List Bound} {us : List Tree} → Groups s lp w false [] [] (property_target l k v before ps) xs us → TakesTarget s lp w (property_target l k v before ps) xs us

-- THE ASSIGNMENT

-- whether the value of what stands here isn't used: it is a statement, maybe in parentheses
abbrev pub is_unused : List Ancestor → Bool
is_unused [] = false
is_unused (a ∷ up) = leads_by ExpressionStatement 0 a || (leads_by ParenthesizedExpression 0 a && is_unused up)

abbrev pub value_after : Bool → Bound → List Tree
value_after true x = []
value_after false x = identifier x ∷ []

-- `{ B.. } = e`
abbrev pub pattern_assigned : Label → Label → Trees → Tree → Tree
pattern_assigned m lp ps e = node AssignmentExpression m (one (node ObjectTarget lp (many ps then done)) then one e then done)

-- `(x = e, A.., x)`, and where the value isn't used, without the last
pub data RestAssignmentRule (n : Site) (w : Whole) : List Bound → Tree → Tree → Type 0 where
  assigns : {m lp : Label} {ps : Trees} {e : Tree} {x : Bound} {xs : List Bound} {us : List Tree} → n.names.scope (codes "babelHelpers") ≡ None → w.in_use (codes "babelHelpers") ≡ true → m.texts ≡ Some (codes "=") ∷ [] →
      IsSilent reads (pattern_assigned m lp ps e) → IsNext w (node_base e) x → TakesTarget (identifier x) lp (with_made (x ∷ []) w) ps xs us →
      RestAssignmentRule n w (x ∷ xs) (pattern_assigned m lp ps e) (placed m (sequence_node (assign_node (identifier x) e ∷ us ++ value_after (is_unused n.above) x)))
