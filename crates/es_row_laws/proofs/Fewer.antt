-- A rule that holds only where a lawful one does is lawful, and steps of it keep what those of the other keep.
use Rattle.std.proofs.Common.{ℕ, Bool}
use Rattle.es_tree.specs.Tree.{Label, Fields}
use Rattle.es_tree.specs.declared.ast_type.AstType.{AstType}
use Rattle.es_steps.specs.Open.{OpenField, OpenFields, Open, OpenTrees}
use Rattle.es_steps.specs.Sites.{IsLocal}
use Rattle.es_steps.specs.Steps.{FieldStep, FieldsStep, Ledger, Site, Spot, Step, TreesStep, at_beside, at_body, at_list, at_node, at_trees}
use Rattle.es_steps.specs.Steps.Step.{acts, inside}
use Rattle.es_steps.specs.Steps.FieldsStep.{in_first, in_later}
use Rattle.es_steps.specs.Steps.FieldStep.{in_child, in_children, in_body, in_list, in_target, in_program, acts_on_list, acts_on_body}
use Rattle.es_steps.specs.Steps.TreesStep.{in_head, in_tail, in_flanked, after_flanked, flanks, acts_on_flanked}
use Rattle.es_steps.proofs.FormRules.{FormLawful}
use Rattle.es_steps.proofs.Taken.{Lawful, Writes}
use Rattle.es_changes.specs.Rules.{IsLawfulRule, is_asked_for}
use Rattle.es_traverse.specs.Laws.{IsStable}

module _ {Q R : Site → Ledger → Spot → Ledger → Spot → Type 0} (under : (n : Site) (s : Ledger) (x : Spot) (s' : Ledger) (y : Spot) → Q n s x s' y → R n s x s' y) where
  fewer-names : Lawful R → Lawful Q
  fewer-names r = record {
    at_nodes = λ n s s' t u h used called. r.at_nodes n s s' t u (under n s (at_node t) s' (at_node u) h) used called;
    flanking = λ n s s' t u bs cs h used. r.flanking n s s' t u bs cs (under n s (at_node t) s' (at_beside bs u cs) h) used;
    at_lists = λ n s s' p p' x y a b ts us h used. r.at_lists n s s' p p' x y a b ts us (under n s (at_list p x a ts) s' (at_list p' y b us) h) used;
    at_bodies = λ n s s' p t u h. r.at_bodies n s s' p t u (under n s (at_body p t) s' (at_node u) h);
    unflanking = λ n s s' t bs cs us h. r.unflanking n s s' t bs cs us (under n s (at_beside bs t cs) s' (at_trees us) h);
  }

  fewer-written : Writes R → Writes Q
  fewer-written r = record {
    imports = λ n s s' t u h. r.imports n s s' t u (under n s (at_node t) s' (at_node u) h);
    flanks_none = λ n s s' t u bs cs h. r.flanks_none n s s' t u bs cs (under n s (at_node t) s' (at_beside bs u cs) h);
    no_names = λ n s s' l fs y e h. r.no_names n s s' l fs y e (under n s _ s' y h);
    freer = λ n s s' x y h. r.freer n s s' x y (under n s x s' y h);
    same_called = λ n s s' x y h m e. r.same_called n s s' x y (under n s x s' y h) m e;
    names = λ q n s s' t u a b h k. r.names q n s s' t u a b (under n s (at_node t) s' (at_node u) h) k;
    names_beside = λ q n s s' t u bs cs a b h k. r.names_beside q n s s' t u bs cs a b (under n s (at_node t) s' (at_beside bs u cs) h) k;
    names_in_lists = λ q n s s' p p' x y a b ts us c d h k. r.names_in_lists q n s s' p p' x y a b ts us c d (under n s (at_list p x a ts) s' (at_list p' y b us) h) k;
  }

  pub fewer-formed : FormLawful R → FormLawful Q
  fewer-formed r = record {
    at_nodes = λ n s s' t u a slot h f. r.at_nodes n s s' t u a slot (under n s (at_node t) s' (at_node u) h) f;
    no_flanks = λ n s s' t u bs cs h. r.no_flanks n s s' t u bs cs (under n s (at_node t) s' (at_beside bs u cs) h);
    at_lists = λ n s s' p q x y a b ts us h k. r.at_lists n s s' p q x y a b ts us (under n s (at_list p x a ts) s' (at_list q y b us) h) k;
    at_bodies = λ n s s' p t u h. r.at_bodies n s s' p t u (under n s (at_body p t) s' (at_node u) h);
  }

  mutual
    fewer-step : {n : Site} {s s' : Ledger} {t u : Open} → Step Q n s t s' u → Step R n s t s' u
    fewer-step (acts t u h) = acts t u (under _ _ _ _ _ h)
    fewer-step (inside h) = inside (fewer-fields h)

    fewer-fields : {c : ℕ → Site} {s s' : Ledger} {fs gs : OpenFields} → FieldsStep Q c s fs s' gs → FieldsStep R c s fs s' gs
    fewer-fields (in_first h) = in_first (fewer-field h)
    fewer-fields (in_later h) = in_later (fewer-fields h)

    fewer-field : {n : Site} {s s' : Ledger} {f g : OpenField} → FieldStep Q n s f s' g → FieldStep R n s f s' g
    fewer-field (in_child h) = in_child (fewer-step h)
    fewer-field (in_children h) = in_children (fewer-trees h)
    fewer-field (in_body a b c h) = in_body a b c (fewer-step h)
    fewer-field (in_list a b h) = in_list a b (fewer-trees h)
    fewer-field (in_target a h) = in_target a (fewer-trees h)
    fewer-field (in_program a h) = in_program a (fewer-trees h)
    fewer-field (acts_on_list ts us h) = acts_on_list ts us (under _ _ _ _ _ h)
    fewer-field (acts_on_body t u h) = acts_on_body t u (under _ _ _ _ _ h)

    fewer-trees : {n : Site} {s s' : Ledger} {ts us : OpenTrees} → TreesStep Q n s ts s' us → TreesStep R n s ts s' us
    fewer-trees (in_head h) = in_head (fewer-step h)
    fewer-trees (in_tail h) = in_tail (fewer-trees h)
    fewer-trees (in_flanked h) = in_flanked (fewer-step h)
    fewer-trees (after_flanked h) = after_flanked (fewer-trees h)
    fewer-trees (flanks t u h) = flanks t u (under _ _ _ _ _ h)
    fewer-trees (acts_on_flanked t us h) = acts_on_flanked t us (under _ _ _ _ _ h)

  -- what it asks of its site is its own
  pub fewer-lawful : IsLawfulRule R → IsLocal (λ s. is_asked_for) Q → IsLawfulRule Q
  fewer-lawful r local = record { names = fewer-names r.names; writes = fewer-written r.writes; form = fewer-formed r.form; local = local }

  pub fewer-stable : (constructs : AstType → Label → Fields → Bool) → IsStable R constructs → IsStable Q constructs
  fewer-stable constructs stable n s s' k l first fs gs stand h free = stable n s s' k l first fs gs stand (fewer-fields h) free
