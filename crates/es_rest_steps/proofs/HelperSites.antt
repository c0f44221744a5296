-- Where no `babelHelpers` is bound in a finished program, that name finds nothing at each of its sites: so a step of a rule is one of another that
-- holds wherever the first does at such sites, as a step of a walk is one of the rows, and one of its parts one of theirs.
use Rattle.std.proofs.Common.{◌≡◌, ℕ, suc, zero, inl, inr, List, [], ◌∷◌}
use Rattle.std.specs.Prelude.{None}
use Rattle.es_tree.specs.Tree.{Tree}
use Rattle.es_tree.specs.declared.ast_type.AstType.TheVariants.{FunctionBody}
use Rattle.es_semantic.specs.RolesOf.{reads}
use Rattle.es_resolution.specs.Resolved.{Place}
use Rattle.es_steps.specs.Identifiers.{Passes, PassesAll, PassesBy, PassesIn}
use Rattle.es_steps.specs.Nodes.{made}
use Rattle.es_steps.specs.Open.{Open, OpenField, OpenFields, OpenTrees, body_with, finished, finished_field, finished_fields, finished_trees}
use Rattle.es_steps.specs.Steps.{FieldStep, FieldsStep, Ledger, Site, Spot, Step, TreesStep, body_fields, names_in_body}
use Rattle.es_steps.specs.Steps.Spot.{at_beside, at_body, at_list, at_node, at_trees}
use Rattle.es_steps.specs.Steps.Step.{acts, inside}
use Rattle.es_steps.specs.Steps.FieldsStep.{in_first, in_later}
use Rattle.es_steps.specs.Steps.FieldStep.{acts_on_body, acts_on_list, in_body, in_child, in_children, in_list, in_program, in_target}
use Rattle.es_steps.specs.Steps.TreesStep.{acts_on_flanked, after_flanked, flanks, in_flanked, in_head, in_tail}
use Rattle.es_steps.proofs.Passing.{body-passes, flanks-pass, whole-passes}
use Rattle.es_rest_rows.specs.RestParts.{PartsWhere}
use Rattle.es_rest_rows.specs.RestRows.{RestRow, RestWalkRow}
use Rattle.es_rest_rows.specs.RestRows.RowsWhere.{nested, stores, takes}
use Rattle.es_rest_rows.proofs.HelperNames.{FindsNone, helpers_name, is_other_name, place-none}

pub body-none : (p : Place) (vs ls : List Tree) (e : Tree) → Passes is_other_name (body_with vs ls e) → FindsNone p → FindsNone (names_in_body p vs ls e)
body-none p [] [] e h f = f
body-none p [] (d ∷ ls) e h f = place-none p reads FunctionBody (made [] []) (body_fields [] (d ∷ ls) e) h f 1
body-none p (v ∷ vs) ls e h f = place-none p reads FunctionBody (made [] []) (body_fields (v ∷ vs) ls e) h f 1

module _ (R Q : Site → Ledger → Spot → Ledger → Spot → Type 0) (there : (n : Site) (s s' : Ledger) (x y : Spot) → FindsNone n.names → R n s x s' y → Q n s x s' y) where
  mutual
    pub step-there : {n : Site} {s s' : Ledger} {t u : Open} → Step R n s t s' u → FindsNone n.names → Passes is_other_name (finished t) → Step Q n s t s' u
    step-there (acts {n = n} {s = s} {s' = s'} t u r) e h = acts t u (there n s s' (at_node t) (at_node u) e r)
    step-there (inside {n = n} {k = k} {l = l} {fs = fs} r) e h = inside (step-there-in r (place-none n.names n.role k l (finished_fields fs) h e) h.1)

    step-there-in : {c : ℕ → Site} {s s' : Ledger} {fs gs : OpenFields} → FieldsStep R c s fs s' gs → ((i : ℕ) → FindsNone (c i).names) → PassesIn is_other_name (finished_fields fs) → FieldsStep Q c s fs s' gs
    step-there-in (in_first r) e h = in_first (step-there-by r (e zero) h.0)
    step-there-in (in_later r) e h = in_later (step-there-in r (λ i. e (suc i)) h.1)

    step-there-by : {n : Site} {s s' : Ledger} {f g : OpenField} → FieldStep R n s f s' g → FindsNone n.names → PassesBy is_other_name (finished_field f) → FieldStep Q n s f s' g
    step-there-by (in_child r) e h = in_child (step-there r e h)
    step-there-by (in_children r) e h = in_children (step-there-all r e h)
    step-there-by (in_body {n = n} {p = p} {t = t} a b c r) e h = in_body a b c (step-there r (body-none n.names p.vars p.lets (finished t) h e) (body-passes is_other_name p.vars p.lets (finished t) h).1)
    step-there-by (in_list {p = p} {y = y} {b = b} {ts = ts} d f r) e h = in_list d f (step-there-all r e (whole-passes is_other_name p y b (finished_trees ts) h).1)
    step-there-by (in_target {p = p} {y = y} {b = b} {ts = ts} f r) e h = in_target f (step-there-all r e (whole-passes is_other_name p y b (finished_trees ts) h).1)
    step-there-by (in_program {p = p} {y = y} {b = b} {ts = ts} f r) e h = in_program f (step-there-all r e (whole-passes is_other_name p y b (finished_trees ts) h).1)
    step-there-by (acts_on_list {n = n} {s = s} {s' = s'} {p = p} {q = q} {x = x} {y = y} {a = a} {b = b} ts us r) e h = acts_on_list ts us (there n s s' (at_list p x a ts) (at_list q y b us) e r)
    step-there-by (acts_on_body {n = n} {s = s} {s' = s'} {p = p} t u r) e h = acts_on_body t u (there n s s' (at_body p t) (at_node u) e r)

    step-there-all : {n : Site} {s s' : Ledger} {ts us : OpenTrees} → TreesStep R n s ts s' us → FindsNone n.names → PassesAll is_other_name (finished_trees ts) → TreesStep Q n s ts s' us
    step-there-all (in_head r) e h = in_head (step-there r e h.0)
    step-there-all (in_tail r) e h = in_tail (step-there-all r e h.1)
    step-there-all (in_flanked {bs = bs} {cs = cs} {t = t} {ts = ts} r) e h = in_flanked (step-there r e (flanks-pass is_other_name bs cs (finished t) (finished_trees ts) h).1.0)
    step-there-all (after_flanked {bs = bs} {cs = cs} {t = t} {ts = ts} r) e h = after_flanked (step-there-all r e (flanks-pass is_other_name bs cs (finished t) (finished_trees ts) h).1.1)
    step-there-all (flanks {n = n} {s = s} {s' = s'} {bs = bs} {cs = cs} t u r) e h = flanks t u (there n s s' (at_node t) (at_beside bs u cs) e r)
    step-there-all (acts_on_flanked {n = n} {s = s} {s' = s'} {bs = bs} {cs = cs} t us r) e h = acts_on_flanked t us (there n s s' (at_beside bs t cs) (at_trees us) e r)

-- THE ROWS AND THE PARTS

pub rows-there : (n : Site) (s s' : Ledger) (x y : Spot) → FindsNone n.names → RestWalkRow n s x s' y → RestRow n s x s' y
rows-there n s s' x y e (stores m l a c p v z out kind plain declares kept silent fresh) = stores m l a c p v z out kind plain declares kept silent fresh
rows-there n s s' x y e (takes m l lp lr ls a ps c t xs out kind plain name declares kept names asked used) = takes m l lp lr ls a ps c t xs out kind plain name declares kept names e used
rows-there n s s' x y e (nested m l lp lq ls a ps rs c k p v u z out kind members bears plain puts declares kept fresh) = nested m l lp lq ls a ps rs c k p v u z out kind members bears plain puts declares kept fresh

pub parts-there : (n : Site) (s s' : Ledger) (x y : Spot) → FindsNone n.names → PartsWhere (λ n. Unit {0}) n s x s' y → PartsWhere (λ n. n.names.scope helpers_name ≡ None) n s x s' y
parts-there n s s' x y e (inl r) = inl r
parts-there n s s' x y e (inr r) = inr (e, r.1)
