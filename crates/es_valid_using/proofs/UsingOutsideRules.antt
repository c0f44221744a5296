-- The rules of `using` leave nodes off which the same is read for module requests and exported names.
use Rattle.std.proofs.Common.{◌≡◌, inl, inr, refl, sym, ◌∙◌, [], ◌∷◌}
use Rattle.std.specs.Prelude.{true, false}
use Rattle.es_tree.specs.HasForm.{same_type}
use Rattle.es_tree.specs.Tree.{Tree, Trees, empty, ◌before◌, kind_of}
use Rattle.es_tree.specs.Words.{Text}
use Rattle.es_tree.specs.declared.ast_type.AstType.TheVariants.{Program}
use Rattle.es_resolution.specs.Declarations.{Bound}
use Rattle.es_steps.specs.Nodes.{joined_trees}
use Rattle.es_steps.specs.Open.{is_import}
use Rattle.es_steps.specs.Rules.{either_rule, next_name}
use Rattle.es_steps.specs.Steps.{Whole, Ledger, Site, Spot}
use Rattle.es_steps.specs.Steps.Spot.{at_node}
use Rattle.es_steps.specs.UsingBlocks.{BlockUsing, error_of, protected, with_context}
use Rattle.es_steps.specs.UsingBlocks.BlockUsing.{of_block, of_part}
use Rattle.es_steps.specs.UsingBodies.{BodyUsing, body, static_block}
use Rattle.es_steps.specs.UsingBodies.BodyUsing.{of_declaration, of_expression, of_arrow, of_static_block}
use Rattle.es_steps.specs.UsingBodies.IsClass.{class_declaration, class_expression}
use Rattle.es_steps.specs.UsingLoops.{HeadUsing, LoopUsing, UsesInHead}
use Rattle.es_steps.specs.UsingLoops.HeadUsing.{of_head}
use Rattle.es_steps.specs.UsingLoops.LoopUsing.{of_loop}
use Rattle.es_steps.specs.UsingLoops.UsesInHead.{in_head, with_label}
use Rattle.es_steps.specs.UsingSwitches.{SwitchUsing}
use Rattle.es_steps.specs.UsingSwitches.SwitchUsing.{of_switch}
use Rattle.es_steps.proofs.BodyWraps.{body-only}
use Rattle.es_steps.proofs.FormRules.{AtNodes}
use Rattle.es_steps.proofs.HeadUsings.{head-using-only}
use Rattle.es_steps.proofs.RuleLaws.{used-after}
use Rattle.es_steps.proofs.StatementWraps.{loop-only, switch-only}
use Rattle.es_steps.proofs.Taken.{pending_in, this_in, top_in, whole_in}
use Rattle.es_steps.proofs.Wraps.{block-only}
use Rattle.es_module_names.proofs.Held.{Held, HeldAll, held-trees, is_quiet}
use Rattle.es_module_names.proofs.Held.Held.{stays, quiet, inside}
use Rattle.es_module_names.proofs.Held.HeldIn.{more, ends}
use Rattle.es_module_names.proofs.Held.HeldBy.{same, child_held, children_held}
use Rattle.es_module_names.proofs.Held.HeldAll.{some}
use Rattle.es_valid_using.proofs.UsingNamesReplaced.{NodeWent, SameBeside}
use Rattle.es_valid_using.proofs.UsingOutside.{Holds, HoldsLawful}

-- WHAT IS BESIDE stays, and the names of the context are in use
pub context-beside : (w : Whole) (x : Text) (s s' : Ledger) → whole_in s ≡ w → whole_in s' ≡ with_context x w → pending_in s' ≡ pending_in s → this_in s' ≡ this_in s → top_in s' ≡ top_in s → SameBeside s s'
context-beside w x s s' e d p t a = record { pending = p; this = t; top = a; more = λ y g. (λ i. (d i).in_use y) ∙ used-after (next_name w x ∷ error_of w ∷ []) w.in_use y ((λ i. (sym e i).in_use y) ∙ g) }

-- BLOCKS, SWITCHES AND LOOPS: quiet nodes

pub block-holds : HoldsLawful BlockUsing
block-holds = record { only = block-only; at_nodes = nodes; no_program = none }
  where
    nodes : (n : Site) (s s' : Ledger) (t u : Tree) → BlockUsing n s (at_node t) s' (at_node u) → NodeWent Holds n s s' t u
    nodes n s s' t u (of_block {w = w} {c = x} place any takes h) = record { node_went = quiet refl refl; beside = context-beside w x s s' refl refl refl refl refl; imports = refl }
    nodes n s s' t u (of_part {w = w} {c = x} place any takes h) = record { node_went = quiet refl refl; beside = context-beside w x s s' refl refl refl refl refl; imports = refl }

    none : (n : Site) (s s' : Ledger) (t u : Tree) → BlockUsing n s (at_node t) s' (at_node u) → same_type (kind_of t) Program ≡ false
    none n s s' t u (of_block place any takes h) = refl
    none n s s' t u (of_part place any takes h) = refl

pub switch-holds : HoldsLawful SwitchUsing
switch-holds = record { only = switch-only; at_nodes = nodes; no_program = none }
  where
    nodes : (n : Site) (s s' : Ledger) (t u : Tree) → SwitchUsing n s (at_node t) s' (at_node u) → NodeWent Holds n s s' t u
    nodes n s s' t u (of_switch {w = w} {c = x} any silent takes h) = record { node_went = quiet refl refl; beside = context-beside w x s s' refl refl refl refl refl; imports = refl }

    none : (n : Site) (s s' : Ledger) (t u : Tree) → SwitchUsing n s (at_node t) s' (at_node u) → same_type (kind_of t) Program ≡ false
    none n s s' t u (of_switch any silent takes h) = refl

-- what a loop is, maybe with labels
record IsLoop (t : Tree) : Type 0 where
  quiet_kind : is_quiet (kind_of t) ≡ true
  no_import : is_import t ≡ false
  no_program : same_type (kind_of t) Program ≡ false

loop-kind : (c : Bound) (t u : Tree) → UsesInHead c t u → IsLoop t
loop-kind c t u (in_head texts all) = record { quiet_kind = refl; no_import = refl; no_program = refl }
loop-kind c t u (with_label h) = record { quiet_kind = refl; no_import = refl; no_program = refl }

pub loop-holds : HoldsLawful LoopUsing
loop-holds = record { only = loop-only; at_nodes = nodes; no_program = none }
  where
    nodes : (n : Site) (s s' : Ledger) (t u : Tree) → LoopUsing n s (at_node t) s' (at_node u) → NodeWent Holds n s s' t u
    nodes n s s' t u (of_loop {w = w} {u = v} {c = x} label takes h) =
        let loop = loop-kind (next_name w x) t v h in
        record { node_went = quiet loop.quiet_kind refl; beside = context-beside w x s s' refl refl refl refl refl; imports = sym loop.no_import }

    none : (n : Site) (s s' : Ledger) (t u : Tree) → LoopUsing n s (at_node t) s' (at_node u) → same_type (kind_of t) Program ≡ false
    none n s s' t u (of_loop {w = w} {u = v} {c = x} label takes h) = (loop-kind (next_name w x) t v h).no_program

pub head-holds : HoldsLawful HeadUsing
head-holds = record { only = head-using-only; at_nodes = nodes; no_program = none }
  where
    nodes : (n : Site) (s s' : Ledger) (t u : Tree) → HeadUsing n s (at_node t) s' (at_node u) → NodeWent Holds n s s' t u
    nodes n s s' t u (of_head {w = w} {c = x} texts fresh apart silent body) = record { node_went = quiet refl refl; beside = record { pending = refl; this = refl; top = refl; more = λ y e. used-after (next_name w x ∷ []) w.in_use y e }; imports = refl }

    none : (n : Site) (s s' : Ledger) (t u : Tree) → HeadUsing n s (at_node t) s' (at_node u) → same_type (kind_of t) Program ≡ false
    none n s s' t u (of_head texts fresh apart silent body) = refl

-- BODIES: of a function that is declared its name is read, which stays

joined-held : (xs : Trees) (t u : Tree) (zs : Trees) → Held t u → HeldAll (joined_trees xs (t before zs)) (joined_trees xs (u before zs))
joined-held empty t u zs h = some h (held-trees zs)
joined-held (x before xs) t u zs h = some stays (joined-held xs t u zs h)

pub body-holds : HoldsLawful BodyUsing
body-holds = record { only = body-only; at_nodes = nodes; no_program = none }
  where
    nodes : (n : Site) (s s' : Ledger) (t u : Tree) → BodyUsing n s (at_node t) s' (at_node u) → NodeWent Holds n s s' t u
    nodes n s s' t u (of_declaration {w = w} {c = x} a b c d e f) = record { node_went = inside (more same (more same (more (child_held (quiet refl refl)) ends))); beside = context-beside w x s s' refl refl refl refl refl; imports = refl }
    nodes n s s' t u (of_expression {w = w} {c = x} a b c d e f) = record { node_went = quiet refl refl; beside = context-beside w x s s' refl refl refl refl refl; imports = refl }
    nodes n s s' t u (of_arrow {w = w} {c = x} a b c d e) = record { node_went = quiet refl refl; beside = context-beside w x s s' refl refl refl refl refl; imports = refl }
    nodes n s s' t u (of_static_block {w = w} {c = x} l xs zs ts us class_declaration b c d e) = record { node_went = inside (more same (more same (more (children_held (joined-held xs (static_block l ts) (static_block l (protected (next_name w x) (error_of w) us before empty)) zs (quiet refl refl))) ends))); beside = context-beside w x s s' refl refl refl refl refl; imports = refl }
    nodes n s s' t u (of_static_block {w = w} {c = x} l xs zs ts us class_expression b c d e) = record { node_went = quiet refl refl; beside = context-beside w x s s' refl refl refl refl refl; imports = refl }

    none : (n : Site) (s s' : Ledger) (t u : Tree) → BodyUsing n s (at_node t) s' (at_node u) → same_type (kind_of t) Program ≡ false
    none n s s' t u (of_declaration a b c d e f) = refl
    none n s s' t u (of_expression a b c d e f) = refl
    none n s s' t u (of_arrow a b c d e) = refl
    none n s s' t u (of_static_block l xs zs ts us class_declaration b c d e) = refl
    none n s s' t u (of_static_block l xs zs ts us class_expression b c d e) = refl

-- TOGETHER

pub both-hold : {Q R : Site → Ledger → Spot → Ledger → Spot → Type 0} → HoldsLawful Q → HoldsLawful R → HoldsLawful (either_rule Q R)
both-hold {Q} {R} q r = record { only = only; at_nodes = nodes; no_program = none }
  where
    only : (n : Site) (s s' : Ledger) (x y : Spot) → either_rule Q R n s x s' y → AtNodes x y
    only n s s' x y (inl h) = q.only n s s' x y h
    only n s s' x y (inr h) = r.only n s s' x y h

    nodes : (n : Site) (s s' : Ledger) (t u : Tree) → either_rule Q R n s (at_node t) s' (at_node u) → NodeWent Holds n s s' t u
    nodes n s s' t u (inl h) = q.at_nodes n s s' t u h
    nodes n s s' t u (inr h) = r.at_nodes n s s' t u h

    none : (n : Site) (s s' : Ledger) (t u : Tree) → either_rule Q R n s (at_node t) s' (at_node u) → same_type (kind_of t) Program ≡ false
    none n s s' t u (inl h) = q.no_program n s s' t u h
    none n s s' t u (inr h) = r.no_program n s s' t u h
