-- In programs of the class no slot stands, so that nothing is wrapped, and steps of other rules make no function.
use Rattle.std.proofs.Common.{◌≡◌, ℕ, zero, suc, refl, sym, ap, subst, ◌∙◌, List, [], ◌∷◌}
use Rattle.std.proofs.lemmas.Bool.{and_parts, and_from}
use Rattle.std.specs.Prelude.{Bool, true, false, ◌&&◌, ◌||◌, Option, codes, map}
use Rattle.es_tree.specs.Ancestors.{Ancestor, ancestor, is_field_value}
use Rattle.es_tree.specs.Tree.{Tree, Label, Fields, Trees, empty, trees}
use Rattle.es_tree.specs.Walks.{all_nodes, all_in_fields, all_in_trees}
use Rattle.es_tree.specs.declared.ast_type.AstType.{AstType}
use Rattle.es_tree.specs.declared.ast_type.AstType.TheVariants.{ArrowFunctionExpression, FunctionDeclaration, FunctionExpression, MetaProperty, ObjectProperty, PropertyDefinition}
use Rattle.es_resolution.specs.Declarations.{Bound}
use Rattle.es_steps.specs.Nodes.{declarator}
use Rattle.es_steps.specs.Open.{Additions, Open, OpenField, OpenFields, OpenTrees, Pending, declaration, finished, finished_field, finished_fields, finished_trees, is_body, pending_statements, whole_list}
use Rattle.es_steps.specs.Slots.{is_in_parameter, is_slot, leads_to_parameter, leads_to_part, leads_to_value}
use Rattle.es_steps.specs.Steps.{FieldStep, FieldsStep, Ledger, Site, Spot, Step, TreesStep, outline}
use Rattle.es_steps.specs.Steps.Spot.{at_list, at_node}
use Rattle.es_steps.specs.Steps.Step.{acts, inside}
use Rattle.es_steps.specs.Steps.FieldsStep.{in_first, in_later}
use Rattle.es_steps.specs.Steps.FieldStep.{acts_on_body, acts_on_list, in_body, in_child, in_children, in_list, in_program, in_target}
use Rattle.es_steps.specs.Steps.TreesStep.{acts_on_flanked, after_flanked, flanks, in_flanked, in_head, in_tail}
use Rattle.es_steps.proofs.FormOpen.{AreProperFields, AreProperTrees, IsProper, IsProperField}
use Rattle.es_steps.proofs.FormRules.{FormLawful}
use Rattle.es_steps.proofs.Opened.{finished-opened, finished-trees}
use Rattle.es_statement_runs.specs.Programs.{is_statement_kind, is_statement_node}
use Rattle.es_statement_steps.proofs.Below.{Below, BelowField, BelowTrees, nodes_below}
use Rattle.es_statement_steps.proofs.StepMoves.{below-after}
use Rattle.es_statement_steps.proofs.WholeLists.{fields-pass, whole-below}

-- THE CLASS, node by node

abbrev pub Class : Tree → Type 0
Class t = all_nodes is_statement_node t ≡ true

pub node-kind : (k : AstType) (l : Label) (fs : Fields) → is_statement_node k l fs ≡ true → is_statement_kind k ≡ true
node-kind ObjectProperty l fs h = refl
node-kind MetaProperty l fs h = refl
node-kind _ l fs h = h

-- a node's test asks nothing of its fields
node-test : (k : AstType) (l : Label) (fs gs : Fields) → is_statement_node k l fs ≡ true → is_statement_node k l gs ≡ true
node-test ObjectProperty l fs gs h = h
node-test MetaProperty l fs gs h = h
node-test _ l fs gs h = h

-- NO SLOTS

pub record NoSlot (up : List Ancestor) : Type 0 where
  pub parameter : is_in_parameter up ≡ false
  pub slot : is_slot up ≡ false

pub none-above : NoSlot []
none-above = record { parameter = refl; slot = refl }

no-parameter : (k : AstType) (l : Label) (fs : Fields) (i : ℕ) → is_statement_kind k ≡ true → leads_to_parameter (ancestor k l fs i 0) ≡ false
no-parameter FunctionDeclaration l fs i h = absurd (cc h)
no-parameter FunctionExpression l fs i h = absurd (cc h)
no-parameter ArrowFunctionExpression l fs i h = absurd (cc h)
no-parameter _ l fs i h = refl

no-value : (k : AstType) (l : Label) (fs : Fields) (i : ℕ) → is_statement_kind k ≡ true → is_field_value (ancestor k l fs i 0) ≡ false
no-value PropertyDefinition l fs i h = absurd (cc h)
no-value _ l fs i h = refl

off : (a b c : Bool) → a ≡ false → c ≡ false → (a || (b && c)) ≡ false
off true b c e d = absurd (cc e)
off false true c e d = d
off false false c e d = refl

slot-below : (up : List Ancestor) (k : AstType) (l : Label) (fs : Fields) (i : ℕ) → is_statement_kind k ≡ true → NoSlot up → NoSlot (ancestor k l fs i 0 ∷ up)
slot-below up k l fs i c h = record {
  parameter = off (leads_to_parameter (ancestor k l fs i 0)) (leads_to_part (ancestor k l fs i 0)) (is_in_parameter up) (no-parameter k l fs i c) h.parameter;
  slot = off (is_field_value (ancestor k l fs i 0)) (leads_to_value (ancestor k l fs i 0)) (is_in_parameter up) (no-value k l fs i c) h.parameter;
}

pub no-arrow : (k : AstType) (i : ℕ) → is_statement_kind k ≡ true → is_body k i ≡ false
no-arrow ArrowFunctionExpression i h = absurd (cc h)
no-arrow _ i h = refl

-- LISTS with temporaries

class-declarators : (bs : List Bound) → all_in_trees is_statement_node (trees (map declarator bs)) ≡ true
class-declarators [] = refl
class-declarators (b ∷ bs) = class-declarators bs

class-vars : (bs : List Bound) → BelowTrees Class (declaration (codes "var") (map declarator bs) empty)
class-vars [] = tt
class-vars (b ∷ bs) = (rw (class-declarators bs) refl, tt)

-- STEPS: where no slot stands a step of a rule is one of another, and the class is kept

pub record Tame (R P : Site → Ledger → Spot → Ledger → Spot → Type 0) : Type 0 where
  pub nodes : (n : Site) (s s' : Ledger) (t u : Tree) → NoSlot n.above → R n s (at_node t) s' (at_node u) → Class t → P n s (at_node t) s' (at_node u) × Class u
  pub lists : (n : Site) (s s' : Ledger) (p q : Pending) (x y : Option Bound) (a b : Additions) (ts us : Trees) → R n s (at_list p x a ts) s' (at_list q y b us) → P n s (at_list p x a ts) s' (at_list q y b us)

module _ (R P : Site → Ledger → Spot → Ledger → Spot → Type 0) (law : FormLawful R) (tame : Tame R P) where
  mutual
    pub tamed : {n : Site} {s s' : Ledger} {t u : Open} → Step R n s t s' u → NoSlot n.above → IsProper t → IsProper u → Class (finished t) → Step P n s t s' u × Class (finished u)
    tamed (acts {n = n} {s = s} {s' = s'} t u h) slot proper proper_after class =
        let r = tame.nodes n s s' t u slot h (subst (λ (x : Tree). Class x) (finished-opened t) class) in
        (acts t u r.0, subst (λ (x : Tree). Class x) (sym (finished-opened u)) r.1)
    tamed (inside {n = n} {k = k} {l = l} {fs = fs} {gs = gs} h) slot proper proper_after class =
        let d = and_parts (is_statement_node k l (finished_fields fs)) (all_in_fields is_statement_node (finished_fields fs)) class in
        let kind = node-kind k l (finished_fields fs) d.0 in
        let r = tamed-in h (λ i. slot-below n.above k l (outline fs) i kind slot) (is_body k) proper proper_after (λ i. no-arrow k i kind) (nodes_below is_statement_node (finished_fields fs) d.1) in
        (inside r.0, and_from (is_statement_node k l (finished_fields gs)) (all_in_fields is_statement_node (finished_fields gs)) (node-test k l (finished_fields fs) (finished_fields gs) d.0) (fields-pass is_statement_node (finished_fields gs) r.1))

    tamed-in : {c : ℕ → Site} {s s' : Ledger} {fs gs : OpenFields} → FieldsStep R c s fs s' gs → ((i : ℕ) → NoSlot (c i).above) → (bodies : ℕ → Bool) → AreProperFields bodies fs → AreProperFields bodies gs → ((i : ℕ) → bodies i ≡ false) → Below (λ i. Class) (finished_fields fs) → FieldsStep P c s fs s' gs × Below (λ i. Class) (finished_fields gs)
    tamed-in (in_first h) slot bodies proper proper_after none class = let r = tamed-by h (slot zero) (bodies zero) proper.0 proper_after.0 (none zero) class.0 in (in_first r.0, (r.1, class.1))
    tamed-in (in_later h) slot bodies proper proper_after none class = let r = tamed-in h (λ i. slot (suc i)) (λ i. bodies (suc i)) proper.1 proper_after.1 (λ i. none (suc i)) class.1 in (in_later r.0, (class.0, r.1))

    tamed-by : {n : Site} {s s' : Ledger} {f g : OpenField} → FieldStep R n s f s' g → NoSlot n.above → (b : Bool) → IsProperField b f → IsProperField b g → b ≡ false → BelowField Class (finished_field f) → FieldStep P n s f s' g × BelowField Class (finished_field g)
    tamed-by (in_child h) slot b proper proper_after none class = let r = tamed h slot proper proper_after class in (in_child r.0, r.1)
    tamed-by (in_children h) slot b proper proper_after none class = let r = tamed-all h slot proper proper_after class in (in_children r.0, r.1)
    tamed-by (in_body e y y' h) slot b proper proper_after none class = absurd (let e : b ≡ true = proper.0 in cc (e, none))
    tamed-by (in_list {p = p} {q = q} {y = y} {b = d} {ts = ts} {us = us} e e' h) slot b proper proper_after none class =
        let r = tamed-all h slot proper.1 proper_after.1 (below-after Class (pending_statements p y d) (finished_trees ts) class) in
        (in_list e e' r.0, whole-below Class class-vars q y d (finished_trees us) proper_after.0 r.1)
    tamed-by (in_target {p = p} {q = q} {y = y} {y' = y'} {b = d} {ts = ts} {us = us} e h) slot b proper proper_after none class =
        let r = tamed-all h slot proper.1 proper_after.1 (below-after Class (pending_statements p y d) (finished_trees ts) class) in
        (in_target e r.0, whole-below Class class-vars q y' d (finished_trees us) proper_after.0 r.1)
    tamed-by (in_program {p = p} {q = q} {y = y} {y' = y'} {b = d} {b' = d'} {ts = ts} {us = us} e h) slot b proper proper_after none class =
        let r = tamed-all h slot proper.1 proper_after.1 (below-after Class (pending_statements p y d) (finished_trees ts) class) in
        (in_program e r.0, whole-below Class class-vars q y' d' (finished_trees us) proper_after.0 r.1)
    tamed-by (acts_on_list {n = n} {s = s} {s' = s'} {p = p} {q = q} {x = x} {y = y} {a = a} {b = d} ts us h) slot b proper proper_after none class =
        let same = ap (λ vs. whole_list p x a vs) (finished-trees ts) ∙ (law.at_lists n s s' p q x y a d ts us h proper.0).trees ∙ sym (ap (λ vs. whole_list q y d vs) (finished-trees us)) in
        (acts_on_list ts us (tame.lists n s s' p q x y a d ts us h), subst (λ (vs : Trees). BelowTrees Class vs) same class)
    tamed-by (acts_on_body {n = n} {s = s} {s' = s'} {p = p} t u h) slot b proper proper_after none class = absurd (let e : b ≡ true = proper.0 in cc (e, none))

    tamed-all : {n : Site} {s s' : Ledger} {ts us : OpenTrees} → TreesStep R n s ts s' us → NoSlot n.above → AreProperTrees ts → AreProperTrees us → BelowTrees Class (finished_trees ts) → TreesStep P n s ts s' us × BelowTrees Class (finished_trees us)
    tamed-all (in_head h) slot proper proper_after class = let r = tamed h slot proper.0 proper_after.0 class.0 in (in_head r.0, (r.1, class.1))
    tamed-all (in_tail h) slot proper proper_after class = let r = tamed-all h slot proper.1 proper_after.1 class.1 in (in_tail r.0, (class.0, r.1))
    tamed-all (in_flanked h) slot proper proper_after class = absurd proper
    tamed-all (after_flanked h) slot proper proper_after class = absurd proper
    tamed-all (flanks {n = n} {s = s} {s' = s'} {bs = bs} {cs = cs} t u h) slot proper proper_after class = absurd (law.no_flanks n s s' t u bs cs h)
    tamed-all (acts_on_flanked t us h) slot proper proper_after class = absurd proper
