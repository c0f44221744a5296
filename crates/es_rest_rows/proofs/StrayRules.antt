-- What each built rule does of patterns with a rest: its node is of a kind that no plain pattern holds where it acts, and what it leaves holds
-- none that isn't lowered.
use Rattle.std.proofs.Common.{◌≡◌, ◌∙◌, refl, sym, inl, inr, true≢false, List, []}
use Rattle.std.specs.Prelude.{Bool, true, false, Option, is_some}
use Rattle.es_tree.specs.Ancestors.{Ancestor}
use Rattle.es_tree.specs.Tree.{Tree, node, Label, Fields, done, ◌then◌, one, many, Trees, empty, ◌before◌, kind_of}
use Rattle.es_tree.specs.declared.ast_type.AstType.TheVariants.{ExportAllDeclaration, ExportNamedDeclaration, ImportDeclaration}
use Rattle.es_tree.specs.declared.options.EnvOptions.{EnvOptions}
use Rattle.es_resolution.specs.Declarations.{Bound}
use Rattle.es_steps.specs.AllRules.{ObjectRule}
use Rattle.es_steps.specs.Arrows.{ArrowRule}
use Rattle.es_steps.specs.Arrows.ArrowRule.{by_name, by_new_name, with_body, with_expression}
use Rattle.es_steps.specs.CoreRules.{RowRule, rule_under, where_on}
use Rattle.es_steps.specs.Exponentiation.{ExponentiationRule}
use Rattle.es_steps.specs.LogicalAssignment.{LogicalAssignmentRule}
use Rattle.es_steps.specs.NamespaceExports.{NamespaceRule, namespace_import}
use Rattle.es_steps.specs.NamespaceExports.NamespaceRule.{exports}
use Rattle.es_steps.specs.Nodes.{identifier, placed, specifier_node}
use Rattle.es_steps.specs.NullishCoalescing.{NullishCoalescingRule}
use Rattle.es_steps.specs.ObjectSpread.{SpreadRule}
use Rattle.es_steps.specs.Open.{Additions, Pending, flanks_with, whole_list, written_body}
use Rattle.es_steps.specs.OptionalCatch.{CatchRule}
use Rattle.es_steps.specs.OptionalCatch.CatchRule.{catches}
use Rattle.es_steps.specs.OptionalChaining.{OptionalChainingRule}
use Rattle.es_steps.specs.RestAssignments.{RestAssignmentRule}
use Rattle.es_steps.specs.Rules.{Replacing, Writing, either_rule, next_name}
use Rattle.es_steps.specs.Rules.Replacing.{replaces}
use Rattle.es_steps.specs.Rules.Writing.{all_pending, declarators}
use Rattle.es_steps.specs.Slots.{is_slot}
use Rattle.es_steps.specs.Steps.{Ledger, Site, Spot, Whole}
use Rattle.es_steps.specs.Steps.Spot.{at_beside, at_body, at_list, at_node, at_trees}
use Rattle.es_steps.specs.WrapRule.{WrapRule}
use Rattle.es_steps.specs.WrapRule.WrapRule.{wraps}
use Rattle.es_steps.proofs.FormRules.{AtNodes, no-names}
use Rattle.es_steps.proofs.Lists.{written-first}
use Rattle.es_steps.proofs.Opened.{written-none}
use Rattle.es_steps.proofs.RuleLaws.{writes-lists, writing-lawful}
use Rattle.es_steps.proofs.Taken.{pending_in}
use Rattle.es_valid_steps.specs.Laws.{with_further_rules}
use Rattle.es_reached.specs.Reached.{built_rules}
use Rattle.es_reached.proofs.BuiltRules.{arrow-nodes}
use Rattle.es_rest_shapes.specs.RestShapes.{any_tree, is_misplaced}
use Rattle.es_rest_rows.proofs.Changes.{Grown, RuleChanges, nodes-change}
use Rattle.es_rest_rows.proofs.StrayLikes.{Besides}
use Rattle.es_rest_rows.proofs.StrayNodes.{Clean, Mark, Replaced, Sound, above, below, is_acting, made, passes}
use Rattle.es_rest_rows.proofs.StrayNodes.Mark.{a_declaration, a_declarator, a_pattern, a_rest, a_stray, a_target, an_export}
use Rattle.es_rest_rows.proofs.StrayRows.{RowSound, assigning-sound, chaining-sound, coalescing-sound, raising-sound, spreading-sound, assigning_rest-sound}

-- a node on which a rule acts: in a slot any that is at its place, and elsewhere one that is no key, property or rest
pub record Acted (up : List Ancestor) (t u : Tree) : Type 0 where
  pub leaves : Clean t → (is_slot up ≡ true → is_misplaced t ≡ false) → Replaced u
  pub source : is_slot up ≡ false → is_acting (kind_of t) ≡ true

abbrev StrayChanges : (Site → Ledger → Spot → Ledger → Spot → Type 0) → Type 0
StrayChanges R = RuleChanges Acted Besides (λ bs. Unit {0}) R

-- RULES OF NODES

replacing-nodes : (R : Site → Whole → List Bound → Tree → Tree → Type 0) (n : Site) (s s' : Ledger) (x y : Spot) → Replacing R n s x s' y → AtNodes x y
replacing-nodes R n s s' x y (replaces bs h) = tt

replacing-change : (R : Site → Whole → List Bound → Tree → Tree → Type 0) → RowSound R → StrayChanges (Replacing R)
replacing-change R row = nodes-change Acted Besides (λ bs. Unit {0}) (Replacing R) (replacing-nodes R) nodes
  where
    nodes : (n : Site) (s s' : Ledger) (t u : Tree) → Replacing R n s (at_node t) s' (at_node u) → Acted n.above t u × Grown (λ bs. Unit {0}) s s'
    nodes n s s' t u (replaces {w = w} bs d) = let k = row n w bs t u d in (record { leaves = λ h p. k.leaves h; source = λ out. k.source }, record { names = bs; such = tt; pending = refl; top = refl })

row-change : (R : Site → Whole → List Bound → Tree → Tree → Type 0) → RowSound R → StrayChanges (RowRule R)
row-change R row = replacing-change _ (λ n w bs t u d. row n w bs t u d.rule)

-- nothing is pending more
same-pending : (s : Ledger) → Grown (λ bs. Unit {0}) s s
same-pending s = record { names = []; such = tt; pending = no-names (pending_in s); top = refl }

wrap-nodes : (o : EnvOptions) (n : Site) (s s' : Ledger) (x y : Spot) → WrapRule o n s x s' y → AtNodes x y
wrap-nodes o n s s' x y (wraps r e here d) = tt

wraps-node : (o : EnvOptions) (n : Site) (s s' : Ledger) (t u : Tree) → WrapRule o n s (at_node t) s' (at_node u) → Acted n.above t u × Grown (λ bs. Unit {0}) s s'
wraps-node o n s s' t u (wraps r e slot d) = (record { leaves = λ h p. made refl (above refl (tt, (record { free = h; placed = p slot }, tt)), (tt, tt)); source = λ out. absurd (true≢false (sym slot ∙ out)) }, same-pending s)

catch-nodes : (n : Site) (s s' : Ledger) (x y : Spot) → CatchRule n s x s' y → AtNodes x y
catch-nodes n s s' x y (catches fresh) = tt

catches-node : (n : Site) (s s' : Ledger) (t u : Tree) → CatchRule n s (at_node t) s' (at_node u) → Acted n.above t u × Grown (λ bs. Unit {0}) s s'
catches-node n s s' t u (catches {p = p} fresh) = (record { leaves = λ h e. made refl (above refl tt, ((below refl refl h).1.0, tt)); source = λ out. refl }, record { names = []; such = tt; pending = no-names p; top = refl })

-- a `this` becomes a name, and an arrow a function of what stood in it
arrow-node : (n : Site) (s s' : Ledger) (t u : Tree) → ArrowRule n s (at_node t) s' (at_node u) → Acted n.above t u × Grown (λ bs. Unit {0}) s s'
arrow-node n s s' t u (by_name {p = p} reads belongs reaches finds used symbol) = (record { leaves = λ h e. made refl tt; source = λ out. refl }, record { names = []; such = tt; pending = no-names p; top = refl })
arrow-node n s s' t u (by_new_name {p = p} reads belongs reaches fresh) = (record { leaves = λ h e. made refl tt; source = λ out. refl }, record { names = []; such = tt; pending = no-names p; top = refl })
arrow-node n s s' t u (with_body none) = (record { leaves = λ h e. let p = below refl refl h in made refl (tt, (p.0, (p.1.0, tt))); source = λ out. refl }, same-pending s)
arrow-node n s s' t u (with_expression expression none) = (record { leaves = λ h e. let p = below refl refl h in made refl (tt, (p.0, (above refl (tt, ((above refl (p.1.0, tt), tt), tt)), tt))); source = λ out. refl }, same-pending s)

-- AN EXPORT becomes an import and an export

beside-marks : (m : Mark) (l k : Label) (fs gs : Fields) → any_tree (passes m) (node ImportDeclaration l fs before node ExportNamedDeclaration k gs before empty) ≡ false
beside-marks a_pattern l k fs gs = refl
beside-marks a_declarator l k fs gs = refl
beside-marks a_declaration l k fs gs = refl
beside-marks a_rest l k fs gs = refl
beside-marks a_stray l k fs gs = refl
beside-marks an_export l k fs gs = refl
beside-marks a_target l k fs gs = refl

-- it acts on nodes, and puts others beside them
abbrev IsBeside : Spot → Spot → Type 0
IsBeside (at_node t) (at_beside bs u cs) = Unit {0}
IsBeside x y = ⊥

exports-only : (n : Site) (s s' : Ledger) (x y : Spot) → NamespaceRule n s x s' y → IsBeside x y
exports-only n s s' x y (exports top fresh q r o) = tt

exporting-change : StrayChanges NamespaceRule
exporting-change = record {
  at_nodes = λ n s s' t u h. absurd (exports-only n s s' (at_node t) (at_node u) h);
  beside_nodes = besides;
  at_lists = λ n s s' p q x y a b ts us h. absurd (exports-only n s s' (at_list p x a ts) (at_list q y b us) h);
  at_bodies = λ n s s' p t u h. absurd (exports-only n s s' (at_body p t) (at_node u) h);
  unflanking = λ n s s' t bs cs us h. absurd (exports-only n s s' (at_beside bs t cs) (at_trees us) h);
}
  where
    besides : (n : Site) (s s' : Ledger) (t u : Tree) (bs cs : List Tree) → NamespaceRule n s (at_node t) s' (at_beside bs u cs) → Besides t (flanks_with bs u cs empty) × Grown (λ bs. Unit {0}) s s'
    besides n s s' t u bs cs (exports {w = w} {p = p} {m = m} {e = e} {s = r} {attributes = attributes} {x = x} top fresh q1 q2 q3) = (
      record {
        source = refl;
        free = λ h.
            let stood : Clean (node ExportAllDeclaration m (one e then one r then many attributes then done)) = record { nodes = h } in
            let k = below refl refl stood in
            let import : Sound (placed m (namespace_import (next_name w x) r attributes)) = above refl ((above refl (above refl tt, tt), tt), (k.1.0, (k.1.1.0, tt))) in
            let export : Sound (specifier_node (identifier (next_name w x)) e) = above refl (above refl tt, (k.0, tt)) in
            (import.free.nodes, ((refl, (tt, ((export.free.nodes, tt), (tt, (tt, tt))))), tt));
        marks = λ m. beside-marks m _ _ _ _;
      },
      record { names = []; such = tt; pending = no-names p; top = refl },
    )

-- WRITING

writing-change : StrayChanges Writing
writing-change = record {
  at_nodes = λ n s s' t u h. absurd (writes-lists h);
  beside_nodes = λ n s s' t u bs cs h. absurd (writes-lists h);
  at_lists = lists;
  at_bodies = writing-lawful.at_bodies;
  unflanking = writing-lawful.unflanking;
}
  where
    lists : (n : Site) (s s' : Ledger) (p q : Pending) (x y : Option Bound) (a b : Additions) (ts us : Trees) → Writing n s (at_list p x a ts) s' (at_list q y b us) → (s ≡ s') × (whole_list p x a ts ≡ whole_list q y b us)
    lists n s s' p q x y a b ts us declarators = (refl, written-first p x a ts)
    lists n s s' p q x y a b ts us all_pending = (refl, sym (written-none (whole_list p x a ts)))

-- ALL OF THEM

both-change : (Q R : Site → Ledger → Spot → Ledger → Spot → Type 0) → StrayChanges Q → StrayChanges R → StrayChanges (either_rule Q R)
both-change Q R f g = record { at_nodes = nodes; beside_nodes = besides; at_lists = lists; at_bodies = bodies; unflanking = unflanked }
  where
    nodes : (n : Site) (s s' : Ledger) (t u : Tree) → either_rule Q R n s (at_node t) s' (at_node u) → Acted n.above t u × Grown (λ bs. Unit {0}) s s'
    nodes n s s' t u (inl h) = f.at_nodes n s s' t u h
    nodes n s s' t u (inr h) = g.at_nodes n s s' t u h

    besides : (n : Site) (s s' : Ledger) (t u : Tree) (bs cs : List Tree) → either_rule Q R n s (at_node t) s' (at_beside bs u cs) → Besides t (flanks_with bs u cs empty) × Grown (λ bs. Unit {0}) s s'
    besides n s s' t u bs cs (inl h) = f.beside_nodes n s s' t u bs cs h
    besides n s s' t u bs cs (inr h) = g.beside_nodes n s s' t u bs cs h

    lists : (n : Site) (s s' : Ledger) (p q : Pending) (x y : Option Bound) (a b : Additions) (ts us : Trees) → either_rule Q R n s (at_list p x a ts) s' (at_list q y b us) → (s ≡ s') × (whole_list p x a ts ≡ whole_list q y b us)
    lists n s s' p q x y a b ts us (inl h) = f.at_lists n s s' p q x y a b ts us h
    lists n s s' p q x y a b ts us (inr h) = g.at_lists n s s' p q x y a b ts us h

    bodies : (n : Site) (s s' : Ledger) (p : Pending) (t u : Tree) → either_rule Q R n s (at_body p t) s' (at_node u) → (s ≡ s') × (written_body p t ≡ u)
    bodies n s s' p t u (inl h) = f.at_bodies n s s' p t u h
    bodies n s s' p t u (inr h) = g.at_bodies n s s' p t u h

    unflanked : (n : Site) (s s' : Ledger) (t : Tree) (bs cs : List Tree) (us : Trees) → either_rule Q R n s (at_beside bs t cs) s' (at_trees us) → (s ≡ s') × (flanks_with bs t cs empty ≡ us)
    unflanked n s s' t bs cs us (inl h) = f.unflanking n s s' t bs cs us h
    unflanked n s s' t bs cs us (inr h) = g.unflanking n s s' t bs cs us h

on-change : (b : Bool) (R : Site → Ledger → Spot → Ledger → Spot → Type 0) → StrayChanges R → StrayChanges (where_on b R)
on-change true R f = f
on-change false R f = record {
  at_nodes = λ n s s' t u h. absurd h;
  beside_nodes = λ n s s' t u bs cs h. absurd h;
  at_lists = λ n s s' p q x y a b ts us h. absurd h;
  at_bodies = λ n s s' p t u h. absurd h;
  unflanking = λ n s s' t bs cs us h. absurd h;
}

under-change : (o : EnvOptions) → StrayChanges (rule_under o)
under-change o =
    both-change Writing _ writing-change
    (both-change (WrapRule o) _ (nodes-change Acted Besides (λ bs. Unit {0}) (WrapRule o) (wrap-nodes o) (wraps-node o))
    (both-change _ _ (on-change o.es2021.logical_assignment_operators (RowRule LogicalAssignmentRule) (row-change LogicalAssignmentRule assigning-sound))
    (both-change _ _
    (both-change _ _ (on-change o.es2020.nullish_coalescing_operator (RowRule NullishCoalescingRule) (row-change NullishCoalescingRule coalescing-sound))
    (on-change o.es2020.optional_chaining (RowRule (OptionalChainingRule o.assumptions.no_document_all)) (row-change (OptionalChainingRule o.assumptions.no_document_all) (chaining-sound o.assumptions.no_document_all))))
    (on-change o.es2016.exponentiation_operator (RowRule ExponentiationRule) (row-change ExponentiationRule raising-sound)))))

further-change : (o : EnvOptions) → StrayChanges (with_further_rules o)
further-change o =
    both-change (rule_under o) _ (under-change o)
    (both-change _ _ (on-change o.es2019.optional_catch_binding CatchRule (nodes-change Acted Besides (λ bs. Unit {0}) CatchRule catch-nodes catches-node))
    (both-change _ _ (on-change o.es2020.export_namespace_from NamespaceRule exporting-change)
    (on-change (is_some o.es2018.object_rest_spread) ObjectRule (both-change (Replacing SpreadRule) (RowRule RestAssignmentRule) (replacing-change SpreadRule spreading-sound) (row-change RestAssignmentRule assigning_rest-sound)))))

pub built-changes : (o : EnvOptions) → StrayChanges (built_rules o)
built-changes o = both-change (with_further_rules o) _ (further-change o) (on-change (is_some o.es2015.arrow_function) ArrowRule (nodes-change Acted Besides (λ bs. Unit {0}) ArrowRule arrow-nodes arrow-node))
