-- The lowerings that aren't core ones do nothing to a core program.
use Rattle.std.proofs.Common.{◌≡◌, inl, inr, ℕ, refl, sym, ◌∙◌, List, [], ◌∷◌}
use Rattle.std.specs.Prelude.{Bool, true, false, not, ◌&&◌, ◌||◌, Option, is_some}
use Rattle.es_tree.specs.Ancestors.{Ancestor}
use Rattle.es_tree.specs.Core.{is_core_kind}
use Rattle.es_tree.specs.HasForm.{same_type}
use Rattle.es_tree.specs.Tree.{Tree, node, Label, Fields, Trees, empty, ◌before◌}
use Rattle.es_tree.specs.Words.{Text}
use Rattle.es_tree.specs.declared.ast_type.AstType.{AstType}
use Rattle.es_tree.specs.declared.ast_type.AstType.TheVariants.{ArrayPattern, ArrowFunctionExpression, AssignmentPattern, ObjectPattern, PatternProperty, Program, RestElement}
use Rattle.es_tree.specs.declared.options.EnvOptions.{EnvOptions}
use Rattle.es_semantic.specs.declared.place.Role.{Role}
use Rattle.es_steps.specs.AllRules.{ObjectRule, RestRule, UsingRule, further_rules}
use Rattle.es_steps.specs.Arrows.{ArrowRule}
use Rattle.es_steps.specs.Arrows.ArrowRule.{by_name, by_new_name, with_body, with_expression}
use Rattle.es_steps.specs.CatchPatterns.CatchRest.{moves}
use Rattle.es_steps.specs.CoreRules.{where_on}
use Rattle.es_steps.specs.LoopHeads.{IsForEach}
use Rattle.es_steps.specs.LoopHeads.HeadRest.{lexical_head, var_head}
use Rattle.es_steps.specs.LoopHeads.TargetHead.{target_head}
use Rattle.es_steps.specs.LoopHeads.IsForEach.{for_in, for_of}
use Rattle.es_steps.specs.NamespaceExports.{NamespaceRule}
use Rattle.es_steps.specs.NamespaceExports.NamespaceRule.{exports}
use Rattle.es_steps.specs.Nodes.{joined_trees}
use Rattle.es_steps.specs.ObjectRest.{SplitsOff}
use Rattle.es_steps.specs.ObjectRest.SplitRule.{splits}
use Rattle.es_steps.specs.ObjectRest.SplitsOff.{source, nested, nested_default, key}
use Rattle.es_steps.specs.ObjectRest.TakesRest.{takes_rest}
use Rattle.es_steps.specs.ObjectSpread.{SpreadRule}
use Rattle.es_steps.specs.ObjectSpread.SpreadRule.{spreads}
use Rattle.es_steps.specs.OptionalCatch.{CatchRule}
use Rattle.es_steps.specs.OptionalCatch.CatchRule.{catches}
use Rattle.es_steps.specs.ParameterPatterns.ParameterRest.{in_declaration, in_expression, in_arrow}
use Rattle.es_steps.specs.Patterns.{holds_rest}
use Rattle.es_resolution.specs.Declarations.{Bound}
use Rattle.es_steps.specs.RestAssignments.{RestAssignmentRule}
use Rattle.es_steps.specs.RestAssignments.RestAssignmentRule.{assigns}
use Rattle.es_steps.specs.Rules.{either_rule}
use Rattle.es_steps.specs.Rules.Replacing.{replaces}
use Rattle.es_steps.specs.Steps.{Whole, Ledger, Site, Spot, at_node}
use Rattle.es_steps.specs.ThisPlaces.{belongs_to_arrow, keeps_this}
use Rattle.es_steps.specs.UsingBlocks.BlockUsing.{of_block, of_part}
use Rattle.es_steps.specs.UsingBodies.IsClass.{class_declaration, class_expression}
use Rattle.es_steps.specs.UsingBodies.BodyUsing.{of_declaration, of_expression, of_arrow, of_static_block}
use Rattle.es_steps.specs.UsingLoops.HeadUsing.{of_head}
use Rattle.es_steps.specs.UsingLoops.LoopUsing.{of_loop}
use Rattle.es_steps.specs.UsingLoops.UsesInHead.{in_head, with_label}
use Rattle.es_steps.specs.UsingSwitches.SwitchUsing.{of_switch}
use Rattle.es_steps.proofs.BridgeLinks.{Tied, TiedAll, is_part_kind}
use Rattle.es_steps.proofs.BridgeSteps.{AboveFits, is_at_node, rule_of}

-- WHERE THEY ACT

on-further : (P : Type 0) (R : Site → Ledger → Spot → Ledger → Spot → Type 0) (n : Site) (s s' : Ledger) (x y : Spot) → (R n s x s' y → P) → (c : Bool) → where_on c R n s x s' y → P
on-further P R n s s' x y law true r = law r
on-further P R n s s' x y law false r = absurd r

catch-spot : {n : Site} {s s' : Ledger} {x y : Spot} → CatchRule n s x s' y → is_at_node x ≡ true
catch-spot (catches a) = refl

namespace-spot : {n : Site} {s s' : Ledger} {x y : Spot} → NamespaceRule n s x s' y → is_at_node x ≡ true
namespace-spot (exports a b c d e) = refl

rest-spot : {n : Site} {s s' : Ledger} {x y : Spot} → RestRule n s x s' y → is_at_node x ≡ true
rest-spot (inl (splits m a c d es x e f g)) = refl
rest-spot (inr (inl (takes_rest m l lp lr ls a ps c t d e f))) = refl
rest-spot (inr (inr (inl (moves a b)))) = refl
rest-spot (inr (inr (inr (inl (lexical_head a b c d e f g))))) = refl
rest-spot (inr (inr (inr (inl (var_head a b c d e f g))))) = refl
rest-spot (inr (inr (inr (inr (inl (target_head a b c d e f)))))) = refl
rest-spot (inr (inr (inr (inr (inr (in_declaration a b c)))))) = refl
rest-spot (inr (inr (inr (inr (inr (in_expression a b c)))))) = refl
rest-spot (inr (inr (inr (inr (inr (in_arrow a b)))))) = refl

using-spot : {n : Site} {s s' : Ledger} {x y : Spot} → UsingRule n s x s' y → is_at_node x ≡ true
using-spot (inl (of_block a b c d)) = refl
using-spot (inl (of_part a b c d)) = refl
using-spot (inr (inl (of_declaration a b c d e f))) = refl
using-spot (inr (inl (of_expression a b c d e f))) = refl
using-spot (inr (inl (of_arrow a b c d e))) = refl
using-spot (inr (inl (of_static_block l xs zs ts us a b c d e))) = refl
using-spot (inr (inr (inl (of_loop a b c)))) = refl
using-spot (inr (inr (inr (inl (of_switch a b c d))))) = refl
using-spot (inr (inr (inr (inr (of_head a b c d e))))) = refl

arrow-spot : {n : Site} {s s' : Ledger} {x y : Spot} → ArrowRule n s x s' y → is_at_node x ≡ true
arrow-spot (by_name a b c d e f) = refl
arrow-spot (by_new_name a b c d) = refl
arrow-spot (with_body a) = refl
arrow-spot (with_expression a b) = refl

objects-spot : {n : Site} {s s' : Ledger} {x y : Spot} → either_rule ObjectRule RestRule n s x s' y → is_at_node x ≡ true
objects-spot (inl (inl (replaces bs r))) = refl
objects-spot (inl (inr (replaces bs r))) = refl
objects-spot (inr r) = rest-spot r

pub further-spot : (o : EnvOptions) (n : Site) (s s' : Ledger) (x y : Spot) → further_rules o n s x s' y → is_at_node x ≡ true
further-spot o n s s' x y (inl r) = on-further _ CatchRule n s s' x y catch-spot o.es2019.optional_catch_binding r
further-spot o n s s' x y (inr (inl r)) = on-further _ NamespaceRule n s s' x y namespace-spot o.es2020.export_namespace_from r
further-spot o n s s' x y (inr (inr (inl r))) = on-further _ (either_rule ObjectRule RestRule) n s s' x y objects-spot (is_some o.es2018.object_rest_spread) r
further-spot o n s s' x y (inr (inr (inr (inl r)))) = on-further _ UsingRule n s s' x y using-spot o.es2026.explicit_resource_management r
further-spot o n s s' x y (inr (inr (inr (inr r)))) = on-further _ ArrowRule n s s' x y arrow-spot (is_some o.es2015.arrow_function) r

-- NONE ACTS

-- no node by itself is one on which they act, but for a declaration and `this`
no-arrow : (k : AstType) → is_core_kind k ≡ true → same_type k ArrowFunctionExpression ≡ false
no-arrow ArrowFunctionExpression h = absurd (cc h)
no-arrow _ h = refl

both-false : (a b c : Bool) → b ≡ false → c ≡ false → (not a && (b || c)) ≡ false
both-false true b c e d = refl
both-false false b c e d = rw (e, d)

no-arrow-around : (up : List Ancestor) → AboveFits up → belongs_to_arrow up ≡ false
no-arrow-around [] h = refl
no-arrow-around (a ∷ up) h = both-false (keeps_this a) (same_type a.kind ArrowFunctionExpression) (belongs_to_arrow up) (no-arrow a.kind h.0) (no-arrow-around up h.1)

module _ (used : Text → Bool) (look : Text → Option ℕ) where
  joined-later : (a ts : Trees) → TiedAll used look (joined_trees a ts) → TiedAll used look ts
  joined-later empty ts h = h
  joined-later (t before a) ts h = joined-later a ts h.1

  no-rest-kind : (k : AstType) (l : Label) (fs : Fields) → is_part_kind k ≡ true → holds_rest (node k l fs) ≡ false
  no-rest-kind ObjectPattern l fs h = absurd (cc h)
  no-rest-kind PatternProperty l fs h = absurd (cc h)
  no-rest-kind AssignmentPattern l fs h = absurd (cc h)
  no-rest-kind ArrayPattern l fs h = absurd (cc h)
  no-rest-kind RestElement l fs h = absurd (cc h)
  no-rest-kind _ l fs h = refl

  no-rest : (a : Bool) (t : Tree) → Tied used look a t → holds_rest t ≡ false
  no-rest a (node k l fs) h = no-rest-kind k l fs h.0

  no-split : {w : Whole} {r : Role} {x : Text} {d : Tree} {es : Trees} → SplitsOff w r x d es → Tied used look true d → ⊥
  no-split (source l p e holds fresh silent) h = let no : false ≡ true = sym (no-rest true p h.2.0) ∙ holds in cc no
  no-split (nested l lp lq ls a c k q holds fresh) h = cc (h.2.0.0)
  no-split (nested_default l lp lq la ls a c k q e holds fresh silent) h = cc (h.2.0.0)
  no-split (key l lp lq ls a c k v fresh role silent) h = cc (h.2.0.0)

  no-head : {k : AstType} → IsForEach k → is_part_kind k ≡ true → ⊥
  no-head for_in h = cc h
  no-head for_of h = cc h

  no-catch : (a : Bool) {n : Site} {s s' : Ledger} {t : Tree} {y : Spot} → CatchRule n s (at_node t) s' y → Tied used look a t → ⊥
  no-catch a (catches b) h = cc (h.0)

  no-namespace : (a : Bool) {n : Site} {s s' : Ledger} {t : Tree} {y : Spot} → NamespaceRule n s (at_node t) s' y → Tied used look a t → ⊥
  no-namespace a (exports b c d e f) h = cc (h.0)

  no-rest-rule : (a : Bool) {n : Site} {s s' : Ledger} {t : Tree} {y : Spot} → RestRule n s (at_node t) s' y → Tied used look a t → ⊥
  no-rest-rule a (inl (splits m b c d es x e f g)) h = no-split g (joined-later b (d before c) h.2.0).0
  no-rest-rule a (inr (inl (takes_rest m l lp lr ls b ps c t d e f))) h = cc ((joined-later b _ h.2.0).0.2.0.0)
  no-rest-rule a (inr (inr (inl (moves b c)))) h = cc (h.0)
  no-rest-rule a (inr (inr (inr (inl (lexical_head b c d e f g i))))) h = no-head b h.0
  no-rest-rule a (inr (inr (inr (inl (var_head b c d e f g i))))) h = no-head b h.0
  no-rest-rule a (inr (inr (inr (inr (inl (target_head b c d e f g)))))) h = no-head b h.0
  no-rest-rule a (inr (inr (inr (inr (inr (in_declaration b c d)))))) h = cc (h.0)
  no-rest-rule a (inr (inr (inr (inr (inr (in_expression b c d)))))) h = cc (h.0)
  no-rest-rule a (inr (inr (inr (inr (inr (in_arrow b c)))))) h = cc (h.0)

  no-spread : (a : Bool) {n : Site} {w : Whole} {bs : List Bound} {t u : Tree} → SpreadRule n w bs t u → Tied used look a t → ⊥
  no-spread a (spreads b c d e f) h = cc (h.0)

  no-rest-assignment : (a : Bool) {n : Site} {w : Whole} {bs : List Bound} {t u : Tree} → RestAssignmentRule n w bs t u → Tied used look a t → ⊥
  no-rest-assignment a (assigns b c d e f g) h = cc (h.2.0.0)

  no-objects : (a : Bool) {n : Site} {s s' : Ledger} {t : Tree} {y : Spot} → either_rule ObjectRule RestRule n s (at_node t) s' y → Tied used look a t → ⊥
  no-objects a (inl (inl (replaces bs r))) h = no-spread a r h
  no-objects a (inl (inr (replaces bs r))) h = no-rest-assignment a r.rule h
  no-objects a (inr r) h = no-rest-rule a r h

  no-using : (a : Bool) {n : Site} {s s' : Ledger} {t : Tree} {y : Spot} → UsingRule n s (at_node t) s' y → Tied used look a t → ⊥
  no-using a (inl (of_block b c d e)) h = cc (h.0)
  no-using a (inl (of_part b c d e)) h = cc (h.0)
  no-using a (inr (inl (of_declaration b c d e f g))) h = cc (h.0)
  no-using a (inr (inl (of_expression b c d e f g))) h = cc (h.0)
  no-using a (inr (inl (of_arrow b c d e f))) h = cc (h.0)
  no-using a (inr (inl (of_static_block l xs zs ts us class_declaration c d e f))) h = cc (h.0)
  no-using a (inr (inl (of_static_block l xs zs ts us class_expression c d e f))) h = cc (h.0)
  no-using a (inr (inr (inl (of_loop b c (in_head d e))))) h = cc (h.0)
  no-using a (inr (inr (inl (of_loop b c (with_label d))))) h = cc (h.0)
  no-using a (inr (inr (inr (inl (of_switch b c d e))))) h = cc (h.0)
  no-using a (inr (inr (inr (inr (of_head b c d e f))))) h = cc (h.0)

  no-arrow-rule : (a : Bool) {n : Site} {s s' : Ledger} {t : Tree} {y : Spot} → ArrowRule n s (at_node t) s' y → AboveFits n.above → Tied used look a t → ⊥
  no-arrow-rule a {n} (by_name b c d e f g) up h = let no : false ≡ true = sym (no-arrow-around n.above up) ∙ c in cc no
  no-arrow-rule a {n} (by_new_name b c d e) up h = let no : false ≡ true = sym (no-arrow-around n.above up) ∙ c in cc no
  no-arrow-rule a (with_body b) up h = cc (h.0)
  no-arrow-rule a (with_expression b c) up h = cc (h.0)

  pub no-further : (o : EnvOptions) (a : Bool) (n : Site) (s s' : Ledger) (t : Tree) (y : Spot) → further_rules o n s (at_node t) s' y → AboveFits n.above → Tied used look a t → ⊥
  no-further o a n s s' t y (inl r) up h = on-further ⊥ CatchRule n s s' (at_node t) y (λ q. no-catch a q h) o.es2019.optional_catch_binding r
  no-further o a n s s' t y (inr (inl r)) up h = on-further ⊥ NamespaceRule n s s' (at_node t) y (λ q. no-namespace a q h) o.es2020.export_namespace_from r
  no-further o a n s s' t y (inr (inr (inl r))) up h = on-further ⊥ (either_rule ObjectRule RestRule) n s s' (at_node t) y (λ q. no-objects a q h) (is_some o.es2018.object_rest_spread) r
  no-further o a n s s' t y (inr (inr (inr (inl r)))) up h = on-further ⊥ UsingRule n s s' (at_node t) y (λ q. no-using a q h) o.es2026.explicit_resource_management r
  no-further o a n s s' t y (inr (inr (inr (inr r)))) up h = on-further ⊥ ArrowRule n s s' (at_node t) y (λ q. no-arrow-rule a q up h) (is_some o.es2015.arrow_function) r

-- nor on a program
abbrev pub is_no_program : Tree → Bool
is_no_program (node Program l fs) = false
is_no_program _ = true

head-kind : {k : AstType} → IsForEach k → (l : Label) (fs : Fields) → is_no_program (node k l fs) ≡ true
head-kind for_in l fs = refl
head-kind for_of l fs = refl

catch-kind : {n : Site} {s s' : Ledger} {t : Tree} {y : Spot} → CatchRule n s (at_node t) s' y → is_no_program t ≡ true
catch-kind (catches a) = refl

namespace-kind : {n : Site} {s s' : Ledger} {t : Tree} {y : Spot} → NamespaceRule n s (at_node t) s' y → is_no_program t ≡ true
namespace-kind (exports a b c d e) = refl

rest-kind : {n : Site} {s s' : Ledger} {t : Tree} {y : Spot} → RestRule n s (at_node t) s' y → is_no_program t ≡ true
rest-kind (inl (splits m a c d es x e f g)) = refl
rest-kind (inr (inl (takes_rest m l lp lr ls a ps c t d e f))) = refl
rest-kind (inr (inr (inl (moves a b)))) = refl
rest-kind (inr (inr (inr (inl (lexical_head a b c d e f g))))) = head-kind a _ _
rest-kind (inr (inr (inr (inl (var_head a b c d e f g))))) = head-kind a _ _
rest-kind (inr (inr (inr (inr (inl (target_head a b c d e f)))))) = head-kind a _ _
rest-kind (inr (inr (inr (inr (inr (in_declaration a b c)))))) = refl
rest-kind (inr (inr (inr (inr (inr (in_expression a b c)))))) = refl
rest-kind (inr (inr (inr (inr (inr (in_arrow a b)))))) = refl

spread-kind : {n : Site} {w : Whole} {bs : List Bound} {t u : Tree} → SpreadRule n w bs t u → is_no_program t ≡ true
spread-kind (spreads b c d e f) = refl

rest-assignment-kind : {n : Site} {w : Whole} {bs : List Bound} {t u : Tree} → RestAssignmentRule n w bs t u → is_no_program t ≡ true
rest-assignment-kind (assigns b c d e f g) = refl

objects-kind : {n : Site} {s s' : Ledger} {t : Tree} {y : Spot} → either_rule ObjectRule RestRule n s (at_node t) s' y → is_no_program t ≡ true
objects-kind (inl (inl (replaces bs r))) = spread-kind r
objects-kind (inl (inr (replaces bs r))) = rest-assignment-kind r.rule
objects-kind (inr r) = rest-kind r

using-kind : {n : Site} {s s' : Ledger} {t : Tree} {y : Spot} → UsingRule n s (at_node t) s' y → is_no_program t ≡ true
using-kind (inl (of_block a b c d)) = refl
using-kind (inl (of_part a b c d)) = refl
using-kind (inr (inl (of_declaration a b c d e f))) = refl
using-kind (inr (inl (of_expression a b c d e f))) = refl
using-kind (inr (inl (of_arrow a b c d e))) = refl
using-kind (inr (inl (of_static_block l xs zs ts us class_declaration b c d e))) = refl
using-kind (inr (inl (of_static_block l xs zs ts us class_expression b c d e))) = refl
using-kind (inr (inr (inl (of_loop a b (in_head c d))))) = refl
using-kind (inr (inr (inl (of_loop a b (with_label c))))) = refl
using-kind (inr (inr (inr (inl (of_switch a b c d))))) = refl
using-kind (inr (inr (inr (inr (of_head a b c d e))))) = refl

arrow-kind : {n : Site} {s s' : Ledger} {t : Tree} {y : Spot} → ArrowRule n s (at_node t) s' y → is_no_program t ≡ true
arrow-kind (by_name a b c d e f) = refl
arrow-kind (by_new_name a b c d) = refl
arrow-kind (with_body a) = refl
arrow-kind (with_expression a b) = refl

pub further-kind : (o : EnvOptions) (n : Site) (s s' : Ledger) (t : Tree) (y : Spot) → further_rules o n s (at_node t) s' y → is_no_program t ≡ true
further-kind o n s s' t y (inl r) = on-further _ CatchRule n s s' (at_node t) y catch-kind o.es2019.optional_catch_binding r
further-kind o n s s' t y (inr (inl r)) = on-further _ NamespaceRule n s s' (at_node t) y namespace-kind o.es2020.export_namespace_from r
further-kind o n s s' t y (inr (inr (inl r))) = on-further _ (either_rule ObjectRule RestRule) n s s' (at_node t) y objects-kind (is_some o.es2018.object_rest_spread) r
further-kind o n s s' t y (inr (inr (inr (inl r)))) = on-further _ UsingRule n s s' (at_node t) y using-kind o.es2026.explicit_resource_management r
further-kind o n s s' t y (inr (inr (inr (inr r)))) = on-further _ ArrowRule n s s' (at_node t) y arrow-kind (is_some o.es2015.arrow_function) r

-- the rows that some options ask for, with the wrap rule for others, and the further lowerings that others ask for
abbrev pub all_of : EnvOptions → EnvOptions → EnvOptions → Site → Ledger → Spot → Ledger → Spot → Type 0
all_of v o g = either_rule (rule_of v o) (further_rules g)
