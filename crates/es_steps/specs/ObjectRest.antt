-- An object rest (ECMA-262, 14.3.3) is taken by a helper: `let { a, ...b } = c;` becomes
-- `let _c = c, { a } = _c, b = babelHelpers.objectWithoutProperties(_c, ["a"]);`, and where it stands alone, `let { ...b } = c;` becomes
-- `let _c = c, b = babelHelpers.extends({}, (babelHelpers.objectDestructuringEmpty(_c), _c));`. Where a key is computed, the keys become
-- `[k].map(babelHelpers.toPropertyKey)`. It goes in parts: each takes one temporary, or none, and leaves a declaration of the same word,
-- with declarators in the declarator's place. A row of object rest is a row of them.
use Rattle.std.specs.Prelude.{◌≡◌, Bool, true, false, List, ◌∷◌, Option, None, codes, map, []}
use Rattle.es_resolution.specs.Declarations.{Bound, is_lexical}
use Rattle.es_semantic.specs.RolesOf.{reads, role_at, binding_of}
use Rattle.es_semantic.specs.declared.place.Binding.{Binding}
use Rattle.es_semantic.specs.declared.place.Binding.TheVariants.{Variable}
use Rattle.es_semantic.specs.declared.place.Role.{Role}
use Rattle.es_semantic.specs.declared.place.Role.TheVariants.{Binds}
use Rattle.es_steps.specs.Nodes.{made, identifier, word, string_node, member_node, array_node, call_node, declarator_with, joined_trees, object_node, sequence_node}
use Rattle.es_steps.specs.Open.{Pending, Additions}
use Rattle.es_steps.specs.Patterns.{IsSilent, holds_rest}
use Rattle.es_steps.specs.Rules.{with_made, next_name}
use Rattle.es_steps.specs.Steps.{Whole, Ledger, ledger, Site, Spot, at_node}
use Rattle.es_tree.specs.Fresh.{IsFreshName, node_base}
use Rattle.es_tree.specs.Names.{first_text, has_computed}
use Rattle.es_tree.specs.Tree.{Tree, node, Label, done, ◌then◌, Field, one, many, Trees, empty, ◌before◌}
use Rattle.es_tree.specs.Words.{Text}
use Rattle.es_tree.specs.declared.ast_type.AstType.TheVariants.{AssignmentPattern, Identifier, ObjectPattern, PatternProperty, RestElement, VariableDeclaration, VariableDeclarator}

-- `var`, or another word
pub data Declares : Binding → Type 0 where
  by_var : {b : Binding} → b ≡ Variable → Declares b
  lexically : {b : Binding} → is_lexical b ≡ true → Declares b

abbrev pub kind_of_declaration : Label → Binding
kind_of_declaration m = binding_of (first_text m.texts)

abbrev pub pattern_node : Label → Trees → Tree
pattern_node l ps = node ObjectPattern l (many ps then done)

abbrev pub declares_as : Label → Tree → Tree → Tree
declares_as l p e = node VariableDeclarator l (one p then one e then done)

-- `{ B.. } = s`, where B stands
abbrev pub declares_some : Label → Tree → Trees → Trees
declares_some l s empty = empty
declares_some l s (p before ps) = declarator_with (pattern_node l (p before ps)) s before empty

abbrev pub the_whole : Ledger → Whole
the_whole (ledger w p x a) = w

-- one declarator, and those that come for it, with a temporary of this name, where declarations have this role
pub data SplitsOff (w : Whole) (r : Role) (x : Text) : Tree → Trees → Type 0 where
  -- `P = e` becomes `x = e, P = x`
  source : (l : Label) (p e : Tree) → holds_rest p ≡ true → IsFreshName w.in_use (node_base e) x → IsSilent reads e →
      SplitsOff w r x (declares_as l p e) (declarator_with (identifier (next_name w x)) e before declares_as l p (identifier (next_name w x)) before empty)
  -- `{ A.., k: Q, B.. } = s` becomes `{ A.., k: x } = s, Q = x, { B.. } = s`, and where no B stands behind, without the last
  nested : (l lp lq ls : Label) (a c : Trees) (k : Field) (q : Tree) → holds_rest q ≡ true → IsFreshName w.in_use (codes "ref") x →
      SplitsOff w r x (declares_as l (pattern_node lp (joined_trees a (node PatternProperty lq (k then one q then done) before c))) (node Identifier ls done))
      (declarator_with (pattern_node (made [] []) (joined_trees a (node PatternProperty lq (k then one (identifier (next_name w x)) then done) before empty))) (node Identifier ls done) before declarator_with q (identifier (next_name w x)) before declares_some lp (node Identifier ls done) c)
  -- `{ A.., k: Q = d, B.. } = s` becomes `{ A.., k: x = d } = s, Q = x, { B.. } = s`, and so here
  nested_default : (l lp lq la ls : Label) (a c : Trees) (k : Field) (q e : Tree) → holds_rest q ≡ true → IsFreshName w.in_use (codes "ref") x → IsSilent reads e →
      SplitsOff w r x (declares_as l (pattern_node lp (joined_trees a (node PatternProperty lq (k then one (node AssignmentPattern la (one q then one e then done)) then done) before c))) (node Identifier ls done))
      (declarator_with (pattern_node (made [] []) (joined_trees a (node PatternProperty lq (k then one (node AssignmentPattern la (one (identifier (next_name w x)) then one e then done)) then done) before empty))) (node Identifier ls done) before declarator_with q (identifier (next_name w x)) before declares_some lp (node Identifier ls done) c)
  -- `{ A.., [k]: v, B.. } = s` becomes `{ A.. } = s, x = k, { [x]: v, B.. } = s`
  key : (l lp lq ls : Label) (a c : Trees) (k v : Tree) → IsFreshName w.in_use (node_base k) x → role_at r PatternProperty lq (one k then one v then done) 0 ≡ reads → IsSilent reads k →
      SplitsOff w r x (declares_as l (pattern_node lp (joined_trees a (node PatternProperty lq (one k then one v then done) before c))) (node Identifier ls done))
      (declarator_with (pattern_node (made [] []) a) (node Identifier ls done) before declarator_with (identifier (next_name w x)) k before declarator_with (pattern_node lp (node PatternProperty lq (one (identifier (next_name w x)) then one v then done) before c)) (node Identifier ls done) before empty)

-- the values of a rest, with helpers of the name `babelHelpers`: `objectWithoutProperties(s, [texts])`,
-- `objectWithoutProperties(s, [keys].map(toPropertyKey))`, and `extends({}, (objectDestructuringEmpty(s), s))`
abbrev pub helper_node : Text → Tree
helper_node h = member_node (word (codes "babelHelpers")) h

abbrev pub rest_value : Tree → List Text → Tree
rest_value s ks = call_node (helper_node (codes "objectWithoutProperties")) (s ∷ array_node (map string_node ks) ∷ [])

abbrev pub mapped_value : Tree → List Tree → Tree
mapped_value s ks = call_node (helper_node (codes "objectWithoutProperties")) (s ∷ call_node (member_node (array_node ks) (codes "map")) (helper_node (codes "toPropertyKey") ∷ []) ∷ [])

-- `babelHelpers.objectWithoutProperties(s, [keys])`, and where one of the keys is read,
-- `babelHelpers.objectWithoutProperties(s, [keys].map(babelHelpers.toPropertyKey))`
abbrev pub left_of : Bool → Tree → List Tree → Tree
left_of true s ks = mapped_value s ks
left_of false s ks = call_node (helper_node (codes "objectWithoutProperties")) (s ∷ array_node ks ∷ [])

abbrev pub whole_value : Tree → Tree
whole_value s = call_node (helper_node (codes "extends")) (object_node [] ∷ sequence_node (call_node (helper_node (codes "objectDestructuringEmpty")) (s ∷ []) ∷ s ∷ []) ∷ [])

-- a text, or a copy of a name that stands as a computed key in the pattern of one of these declarators
pub data IsKey (ds : Trees) : Tree → Type 0 where
  text_key : (x : Text) → IsKey ds (string_node x)
  name_key : (l lp lq lk : Label) (xs ys a c : Trees) (v e : Tree) → ds ≡ joined_trees xs (declares_as l (pattern_node lp (joined_trees a (node PatternProperty lq (one (node Identifier lk done) then one v then done) before c))) e before ys) →
      has_computed PatternProperty lq.flags ≡ true → IsKey ds (node Identifier lk done)

abbrev pub AreKeys : Trees → List Tree → Type 0
AreKeys ds [] = Unit {0}
AreKeys ds (k ∷ ks) = IsKey ds k × AreKeys ds ks

-- of a pattern of these properties and a rest, declared with `s`, the last of these declarators: what stands in front of the rest's, and
-- its value
pub data RestOf (ds : Trees) (lp : Label) (s : Tree) : Trees → Trees → Tree → Type 0 where
  -- `{ A.., ...r } = s` becomes `{ A.. } = s, r = objectWithoutProperties(s, [texts])`
  beside : {ps : Trees} (ks : List Text) → RestOf ds lp s ps (declarator_with (pattern_node lp ps) s before empty) (rest_value s ks)
  -- or `{ A.. } = s, r = objectWithoutProperties(s, [keys].map(toPropertyKey))`
  mapped : {ps : Trees} (ks : List Tree) → AreKeys ds ks → RestOf ds lp s ps (declarator_with (pattern_node lp ps) s before empty) (mapped_value s ks)
  -- `{ ...r } = s` becomes `r = extends({}, (objectDestructuringEmpty(s), s))`
  alone : RestOf ds lp s empty empty (whole_value s)

-- `{ A.., ...r } = s`
abbrev pub declares_rest : Label → Label → Trees → Label → Tree → Tree → Tree
declares_rest l lp ps lr t s = declares_as l (pattern_node lp (joined_trees ps (node RestElement lr (one t then done) before empty))) s

-- these declarators, and `t = e`
abbrev pub and_declarator : Trees → Tree → Tree → Trees
and_declarator fs t e = joined_trees fs (declarator_with t e before empty)

pub data TakesRest : Site → Ledger → Spot → Ledger → Spot → Type 0 where
  takes_rest : {n : Site} {s : Ledger} {fs : Trees} {e : Tree} (m l lp lr ls : Label) (a ps c : Trees) (t : Tree) → RestOf (joined_trees a (declares_rest l lp ps lr t (node Identifier ls done) before empty)) lp (node Identifier ls done) ps fs e →
      n.names.scope (codes "babelHelpers") ≡ None → (the_whole s).in_use (codes "babelHelpers") ≡ true →
      TakesRest n s (at_node (node VariableDeclaration m (many (joined_trees a (declares_rest l lp ps lr t (node Identifier ls done) before c)) then done)))
      s (at_node (node VariableDeclaration m (many (joined_trees a (joined_trees (and_declarator fs t e) c)) then done)))

pub data SplitRule : Site → Ledger → Spot → Ledger → Spot → Type 0 where
  splits : {n : Site} {w : Whole} {s : Option Bound} {q : Pending} {y : Additions} (m : Label) (a c : Trees) (d : Tree) (es : Trees) (x : Text) → w.in_use x ≡ false → Declares (kind_of_declaration m) → SplitsOff w (Binds (kind_of_declaration m)) x d es →
      SplitRule n (ledger w q s y) (at_node (node VariableDeclaration m (many (joined_trees a (d before c)) then done))) (ledger (with_made (next_name w x ∷ []) w) q s y) (at_node (node VariableDeclaration m (many (joined_trees a (joined_trees es c)) then done)))
