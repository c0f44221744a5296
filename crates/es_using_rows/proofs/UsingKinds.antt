-- A row of a walk is a step of the rules of `using`, by the kind of its node, at a site where `babelHelpers` finds nothing; and at a static block one
-- of the class around it.
use Rattle.std.proofs.Common.{◌≡◌, ℕ, inl, inr, refl, sym, ◌∙◌}
use Rattle.std.specs.Prelude.{◌&&◌, ◌⊎◌, not, Bool, true, false, Option, codes, if◌then◌else◌}
use Rattle.std.proofs.lemmas.Bool.{and_parts, not-false, not-true}
use Rattle.es_tree.specs.Fresh.{IsFreshName, text_base}
use Rattle.es_tree.specs.HasForm.{has_form}
use Rattle.es_tree.specs.Tree.{Tree, node, Label, Fields, done, ◌then◌, Field, one, many, statements, Trees, empty, ◌before◌}
use Rattle.es_tree.specs.Words.{Text}
use Rattle.es_tree.specs.declared.ast_type.AstType.{AstType}
use Rattle.es_tree.specs.declared.ast_type.AstType.TheVariants.{ArrowFunctionExpression, BlockStatement, ForStatement, FunctionBody, FunctionDeclaration, FunctionExpression, LabeledStatement, StaticBlock, SwitchStatement}
use Rattle.es_tree.specs.declared.table.Sort.{Sort}
use Rattle.es_resolution.specs.Declarations.{Bound}
use Rattle.es_resolution.proofs.AllForms.{AllIn}
use Rattle.es_steps.specs.AllRules.{UsingRule}
use Rattle.es_steps.specs.Identifiers.{Passes}
use Rattle.es_steps.specs.Open.{Additions, Pending, opened}
use Rattle.es_steps.specs.Rules.{next_name}
use Rattle.es_steps.specs.Steps.{Ledger, Site, Whole}
use Rattle.es_steps.specs.Steps.Ledger.{ledger}
use Rattle.es_steps.specs.Steps.Spot.{at_node}
use Rattle.es_steps.specs.UsingBlocks.{BlockUsing, TakesContext, has_using, inside_block, is_statement_place, with_context}
use Rattle.es_steps.specs.UsingBlocks.BlockUsing.{of_block, of_part}
use Rattle.es_steps.specs.UsingLoops.{UsesInHead}
use Rattle.es_steps.specs.UsingLoops.LoopUsing.{of_loop}
use Rattle.es_steps.specs.UsingSwitches.{some_case_has_using}
use Rattle.es_steps.specs.UsingSwitches.SwitchUsing.{of_switch}
use Rattle.es_rest_rows.proofs.HelperNames.{FindsNone, is_other_name, place-none}
use Rattle.es_pattern_moves.proofs.Settled.{Sound}
use Rattle.es_using_rows.specs.Used.{constants, tried, used_loop, used_node}
use Rattle.es_using_rows.specs.UsingPlaces.{are_used, are_used_cases, is_labelled, is_part, leads_to_head, may_enter, uses_here, uses_in_arrow, uses_in_body, uses_in_function, uses_in_head, uses_in_list, uses_in_static_block}
use Rattle.es_using_rows.specs.UsingRows.{StandsSo, UsingWalkRow, making}
use Rattle.es_using_rows.specs.UsingRows.UsingWalkRow.{uses as uses_row}
use Rattle.es_using_rows.specs.declared.standing.Standing.{Standing}
use Rattle.es_steps.specs.UsingBodies.{body}
use Rattle.es_using_rows.proofs.BodiesApart.{BodyApart}
use Rattle.es_using_rows.proofs.UsingBodySites.{arrow-step, declaration-step, expression-step}
use Rattle.es_using_rows.proofs.UsingMembers.{IsMember, static-uses}
use Rattle.es_using_rows.proofs.UsingSites.{cases-are, constants-are, for-is, head-is, takes, tested-none}

-- FUNCTIONS whose body's list is lowered

data IsUsedBody (ps : Trees) : Tree → Type 0 where
  a_body : (l : Label) (ds ts : Trees) → uses_in_list ts ≡ true → may_enter ps ts ≡ true → IsUsedBody ps (body l ds ts)

body-shape : (ps : Trees) (b : Tree) → uses_in_body ps b ≡ true → IsUsedBody ps b
body-shape ps (node FunctionBody l (many ds then statements ts then done)) e = let both = and_parts (uses_in_list ts) (may_enter ps ts) e in a_body l ds ts both.0 both.1
body-shape ps _ e = absurd (cc e)

data IsUsedFunction : Fields → Type 0 where
  a_function : (f : Field) (ps : Trees) (b : Tree) → IsUsedBody ps b → IsUsedFunction (f then many ps then one b then done)

function-shape : (fs : Fields) → uses_in_function fs ≡ true → IsUsedFunction fs
function-shape (f then many ps then one b then done) e = a_function f ps b (body-shape ps b e)
function-shape _ e = absurd (cc e)

data IsUsedArrow : Fields → Type 0 where
  an_arrow : (ps : Trees) (b : Tree) → IsUsedBody ps b → IsUsedArrow (many ps then one b then done)

arrow-shape : (fs : Fields) → uses_in_arrow fs ≡ true → IsUsedArrow fs
arrow-shape (many ps then one b then done) e = an_arrow ps b (body-shape ps b e)
arrow-shape _ e = absurd (cc e)

-- KINDS OF NODES

module _ (n : Site) (w : Whole) (q : Pending) (x : Option Bound) (y : Additions) (s : Standing) (i : ℕ) (c : Text) (stands : StandsSo s n) (fresh : IsFreshName w.in_use (text_base (codes "usingCtx")) c) (used : w.in_use (codes "babelHelpers") ≡ true) (none : FindsNone n.names) where
  abbrev IsStep : Tree → Tree → Type 0
  IsStep t u = UsingRule n (ledger w q x y) (at_node t) (ledger (with_context c w) q x y) (at_node u)

  abbrev IsMemberStep : Tree → Tree → Type 0
  IsMemberStep t u = IsMember n (ledger w q x y) (ledger (with_context c w) q x y) (opened t) (opened u)

  block-step : (l : Label) (ts : Trees) → Passes is_other_name (node BlockStatement l (statements ts then done)) → (has_using ts && are_used ts) ≡ true → IsStep (node BlockStatement l (statements ts then done)) (used_node (making w c) s i BlockStatement l (statements ts then done))
  block-step l ts h e = inl (at (is_part s) refl)
    where
      both : (has_using ts ≡ true) × (are_used ts ≡ true)
      both = and_parts (has_using ts) (are_used ts) e

      context : TakesContext w c (inside_block n l ts)
      context = takes w c fresh used (inside_block n l ts) (place-none n.names n.role BlockStatement l (statements ts then done) h none 0)

      the_try : Tree
      the_try = tried (making w c) i (node BlockStatement l (statements ts then done)) (constants (making w c) i ts)

      at : (v : Bool) → is_part s ≡ v → BlockUsing n (ledger w q x y) (at_node (node BlockStatement l (statements ts then done))) (ledger (with_context c w) q x y) (at_node (if v then node BlockStatement l (statements (the_try before empty) then done) else the_try))
      at true d = of_part (not-true (is_statement_place n.above) (sym stands.part ∙ d)) both.0 context (constants-are w c i ts both.1)
      at false d = of_block (not-false (is_statement_place n.above) (sym stands.part ∙ d)) both.0 context (constants-are w c i ts both.1)

  loop-step : (t : Tree) → not (is_labelled s) ≡ true → UsesInHead (next_name w c) t (used_loop (making w c) i t) → IsStep t (tried (making w c) i t (used_loop (making w c) i t before empty))
  loop-step t e r = inr (inr (inl (of_loop (sym stands.labelled ∙ not-true (is_labelled s) e) (takes w c fresh used n.names none) r)))

  declaration-kind : (m : Label) (fs : Fields) (a : Sort) → IsUsedFunction fs → has_form a (node FunctionDeclaration m fs) ≡ true → Passes is_other_name (node FunctionDeclaration m fs) → AllIn Sound fs → BodyApart FunctionDeclaration m fs → IsStep (node FunctionDeclaration m fs) (used_node (making w c) s i FunctionDeclaration m fs)
  declaration-kind m fs a (a_function g ps b (a_body l ds ts lowered enter)) f h sound apart = declaration-step n w q x y i (body l ds ts) c fresh used none l ds ts lowered sound.1.1.0.1.1.0 (apart g ps l ds ts refl) a m g ps enter f h

  expression-kind : (m : Label) (fs : Fields) (a : Sort) → IsUsedFunction fs → has_form a (node FunctionExpression m fs) ≡ true → Passes is_other_name (node FunctionExpression m fs) → AllIn Sound fs → BodyApart FunctionExpression m fs → IsStep (node FunctionExpression m fs) (used_node (making w c) s i FunctionExpression m fs)
  expression-kind m fs a (a_function g ps b (a_body l ds ts lowered enter)) f h sound apart = expression-step n w q x y i (body l ds ts) c fresh used none l ds ts lowered sound.1.1.0.1.1.0 (apart g ps l ds ts refl) a m g ps enter f h

  arrow-kind : (m : Label) (fs : Fields) (a : Sort) → IsUsedArrow fs → has_form a (node ArrowFunctionExpression m fs) ≡ true → Passes is_other_name (node ArrowFunctionExpression m fs) → AllIn Sound fs → BodyApart ArrowFunctionExpression m fs → IsStep (node ArrowFunctionExpression m fs) (used_node (making w c) s i ArrowFunctionExpression m fs)
  arrow-kind m fs a (an_arrow ps b (a_body l ds ts lowered enter)) f h sound apart = arrow-step n w q x y i (body l ds ts) c fresh used none l ds ts lowered sound.1.0.1.1.0 (apart ps l ds ts refl) a m ps enter f h

  static-kind : (l : Label) (fs : Fields) (a : Sort) → has_form a (node StaticBlock l fs) ≡ true → Passes is_other_name (node StaticBlock l fs) → AllIn Sound fs → BodyApart StaticBlock l fs → uses_in_static_block fs ≡ true → IsMemberStep (node StaticBlock l fs) (used_node (making w c) s i StaticBlock l fs)
  static-kind l (statements ts then done) a f h sound apart e =
      let t : Tree = node StaticBlock l (statements ts then done) in
      record {
        label = l;
        old = ts;
        new = tried (making w c) i t (constants (making w c) i ts) before empty;
        step = static-uses w q x y i t c fresh used n.names n.role none a l ts f h sound.0 (apart ts refl) e;
        first = refl;
        last = refl;
      }
  static-kind l fs a f h sound apart e = absurd (cc e)

  abbrev IsStepOrMember : Tree → Tree → Type 0
  IsStepOrMember t u = IsStep t u ⊎ IsMemberStep t u

  kind-step : (k : AstType) (l : Label) (fs : Fields) (a : Sort) → has_form a (node k l fs) ≡ true → Passes is_other_name (node k l fs) → AllIn Sound fs → BodyApart k l fs → uses_here s k l fs ≡ true → IsStepOrMember (node k l fs) (used_node (making w c) s i k l fs)
  kind-step BlockStatement l (statements ts then done) a f h sound apart e = inl (block-step l ts h e)
  kind-step SwitchStatement l (d then many cs then done) a f h sound apart e =
      let both = and_parts (some_case_has_using cs) (are_used_cases cs) e in
      inl (inr (inr (inr (inl (of_switch both.0 (tested-none a l d cs f) (takes w c fresh used n.names none) (cases-are w c i cs both.1))))))
  kind-step ForStatement l fs a f h sound apart e =
      let both = and_parts (not (is_labelled s)) (uses_in_head fs) e in
      inl (loop-step (node ForStatement l fs) both.0 (for-is w c i l fs both.1))
  kind-step LabeledStatement l fs a f h sound apart e =
      let both = and_parts (not (is_labelled s)) (leads_to_head (node LabeledStatement l fs)) e in
      inl (loop-step (node LabeledStatement l fs) both.0 (head-is w c i a (node LabeledStatement l fs) f both.1))
  kind-step FunctionDeclaration m fs a f h sound apart e = inl (declaration-kind m fs a (function-shape fs e) f h sound apart)
  kind-step FunctionExpression m fs a f h sound apart e = inl (expression-kind m fs a (function-shape fs e) f h sound apart)
  kind-step ArrowFunctionExpression m fs a f h sound apart e = inl (arrow-kind m fs a (arrow-shape fs e) f h sound apart)
  kind-step StaticBlock l fs a f h sound apart e = inr (static-kind l fs a f h sound apart e)
  kind-step k l fs a f h sound apart e = absurd (cc e)

-- A ROW

pub row-using : (n : Site) (s s' : Ledger) (k : AstType) (l : Label) (fs : Fields) (u : Tree) (a : Sort) → FindsNone n.names → Passes is_other_name (node k l fs) → has_form a (node k l fs) ≡ true → AllIn Sound fs → BodyApart k l fs → UsingWalkRow n s (at_node (node k l fs)) s' (at_node u) →
    UsingRule n s (at_node (node k l fs)) s' (at_node u) ⊎ IsMember n s s' (opened (node k l fs)) (opened u)
row-using n s s' k l fs u a none h f sound apart (uses_row {w = w} {q = q} {x = x} {y = y} z i _ _ _ c stands here fresh used) = kind-step n w q x y z i c stands fresh used none k l fs a f h sound apart here
