-- In programs of the class no arrow stands, so that no rule of arrows acts there: steps of the built rules are steps of the others.
use Rattle.std.proofs.Common.{◌≡◌, ℕ, zero, suc, inl, inr, List, [], ◌∷◌, refl, subst}
use Rattle.std.proofs.lemmas.Bool.{and_parts}
use Rattle.std.specs.Prelude.{Bool, true, false, ◌&&◌, ◌||◌, not}
use Rattle.es_tree.specs.Ancestors.{Ancestor, ancestor}
use Rattle.es_tree.specs.HasForm.{same_type}
use Rattle.es_tree.specs.Tree.{Tree, Label, Fields, ◌before◌, trees}
use Rattle.es_tree.specs.Walks.{all_in_fields}
use Rattle.es_tree.specs.declared.ast_type.AstType.{AstType}
use Rattle.es_tree.specs.declared.ast_type.AstType.TheVariants.{ArrowFunctionExpression}
use Rattle.es_tree.specs.declared.options.EnvOptions.{EnvOptions}
use Rattle.es_steps.specs.Arrows.{ArrowRule}
use Rattle.es_steps.specs.Arrows.ArrowRule.{by_name, by_new_name, with_body, with_expression}
use Rattle.es_steps.specs.Nodes.{joined_trees}
use Rattle.es_steps.specs.Open.{Open, OpenField, OpenFields, OpenTrees, body_with, finished, finished_field, finished_fields, finished_trees, pending_statements}
use Rattle.es_steps.specs.Steps.{FieldStep, FieldsStep, Ledger, Site, Spot, Step, TreesStep, outline}
use Rattle.es_steps.specs.Steps.Spot.{at_beside, at_body, at_list, at_node, at_trees}
use Rattle.es_steps.specs.Steps.Step.{acts, inside}
use Rattle.es_steps.specs.Steps.FieldsStep.{in_first, in_later}
use Rattle.es_steps.specs.Steps.FieldStep.{acts_on_body, acts_on_list, in_body, in_child, in_children, in_list, in_program, in_target}
use Rattle.es_steps.specs.Steps.TreesStep.{acts_on_flanked, after_flanked, flanks, in_flanked, in_head, in_tail}
use Rattle.es_steps.specs.ThisPlaces.{belongs_to_arrow, keeps_this}
use Rattle.es_steps.proofs.FormRules.{AtNodes}
use Rattle.es_steps.proofs.Opened.{finished-opened}
use Rattle.es_valid_steps.specs.Laws.{with_further_rules}
use Rattle.es_reached.specs.Reached.{built_rules}
use Rattle.es_reached.proofs.BuiltRules.{arrow-nodes, arrow-rule}
use Rattle.es_statement_runs.specs.Programs.{is_statement_kind, is_statement_node}
use Rattle.es_statement_steps.specs.Orders.{only_where}
use Rattle.es_statement_steps.proofs.Below.{Below, BelowField, BelowTrees, nodes_below}
use Rattle.es_statement_steps.proofs.StepMoves.{below-after, below-joined}
use Rattle.es_statement_steps.proofs.Tamed.{Class, node-kind}

-- NO ARROW IS ABOVE

no-arrow : (k : AstType) → is_statement_kind k ≡ true → same_type k ArrowFunctionExpression ≡ false
no-arrow ArrowFunctionExpression h = absurd (cc h)
no-arrow _ h = refl

neither-so : (a b c : Bool) → b ≡ false → c ≡ false → (not a && (b || c)) ≡ false
neither-so true b c e f = refl
neither-so false true c e f = absurd (cc e)
neither-so false false c e f = f

none-below : (up : List Ancestor) (k : AstType) (l : Label) (fs : Fields) (i : ℕ) → is_statement_kind k ≡ true → belongs_to_arrow up ≡ false → belongs_to_arrow (ancestor k l fs i 0 ∷ up) ≡ false
none-below up k l fs i c h = neither-so (keeps_this (ancestor k l fs i 0)) (same_type k ArrowFunctionExpression) (belongs_to_arrow up) (no-arrow k c) h

-- NO RULE OF ARROWS ACTS

no-step : (n : Site) (s s' : Ledger) (t u : Tree) → ArrowRule n s (at_node t) s' (at_node u) → belongs_to_arrow n.above ≡ false → Class t → ⊥
no-step n s s' t u (by_name reads belongs reaches finds used symbol) none class = cc (belongs, none)
no-step n s s' t u (by_new_name reads belongs reaches fresh) none class = cc (belongs, none)
no-step n s s' t u (with_body no_this) none class = cc class
no-step n s s' t u (with_expression expression no_this) none class = cc class

-- a tree of the class is no body with declarators
body-class : (vs ls : List Tree) (t : Tree) → Class (body_with vs ls t) → Class t
body-class [] [] t h = h
body-class [] (d ∷ ls) t h = absurd (cc h)
body-class (v ∷ vs) ls t h = absurd (cc h)

-- STEPS

module _ (o : EnvOptions) where
  node-apart : (n : Site) (s s' : Ledger) (t u : Tree) → built_rules o n s (at_node t) s' (at_node u) → belongs_to_arrow n.above ≡ false → Class t → with_further_rules o n s (at_node t) s' (at_node u)
  node-apart n s s' t u (inl h) none class = h
  node-apart n s s' t u (inr h) none class = absurd (no-step n s s' t u (arrow-rule o n s (at_node t) s' (at_node u) h) none class)

  elsewhere-apart : (n : Site) (s s' : Ledger) (x y : Spot) → built_rules o n s x s' y → (AtNodes x y → ⊥) → with_further_rules o n s x s' y
  elsewhere-apart n s s' x y (inl h) elsewhere = h
  elsewhere-apart n s s' x y (inr h) elsewhere = absurd (elsewhere (arrow-nodes n s s' x y (arrow-rule o n s x s' y h)))

-- at whatever places they are taken
module _ (o : EnvOptions) (at : Site → Spot → Bool) where
  abbrev Built : Site → Ledger → Spot → Ledger → Spot → Type 0
  Built = only_where at (built_rules o)

  abbrev Further : Site → Ledger → Spot → Ledger → Spot → Type 0
  Further = only_where at (with_further_rules o)

  spot-apart : (n : Site) (s s' : Ledger) (x y : Spot) → Built n s x s' y → (AtNodes x y → ⊥) → Further n s x s' y
  spot-apart n s s' x y h elsewhere = (elsewhere-apart o n s s' x y h.0 elsewhere, h.1)

  mutual
    pub arrows-apart : {n : Site} {s s' : Ledger} {t u : Open} → Step Built n s t s' u → belongs_to_arrow n.above ≡ false → Class (finished t) → Step Further n s t s' u
    arrows-apart (acts {n = n} {s = s} {s' = s'} t u h) none class = acts t u (node-apart o n s s' t u h.0 none (subst (λ (x : Tree). Class x) (finished-opened t) class), h.1)
    arrows-apart (inside {n = n} {k = k} {l = l} {fs = fs} h) none class =
        let d = and_parts (is_statement_node k l (finished_fields fs)) (all_in_fields is_statement_node (finished_fields fs)) class in
        inside (apart-in h (λ i. none-below n.above k l (outline fs) i (node-kind k l (finished_fields fs) d.0) none) (nodes_below is_statement_node (finished_fields fs) d.1))

    apart-in : {c : ℕ → Site} {s s' : Ledger} {fs gs : OpenFields} → FieldsStep Built c s fs s' gs → ((i : ℕ) → belongs_to_arrow (c i).above ≡ false) → Below (λ i. Class) (finished_fields fs) → FieldsStep Further c s fs s' gs
    apart-in (in_first h) none class = in_first (apart-by h (none zero) class.0)
    apart-in (in_later h) none class = in_later (apart-in h (λ i. none (suc i)) class.1)

    apart-by : {n : Site} {s s' : Ledger} {f g : OpenField} → FieldStep Built n s f s' g → belongs_to_arrow n.above ≡ false → BelowField Class (finished_field f) → FieldStep Further n s f s' g
    apart-by (in_child h) none class = in_child (arrows-apart h none class)
    apart-by (in_children h) none class = in_children (apart-all h none class)
    apart-by (in_body {p = p} {t = t} e y y' h) none class = in_body e y y' (arrows-apart h none (body-class p.vars p.lets (finished t) class))
    apart-by (in_list {p = p} {y = y} {b = b} {ts = ts} e e' h) none class = in_list e e' (apart-all h none (below-after Class (pending_statements p y b) (finished_trees ts) class))
    apart-by (in_target {p = p} {y = y} {b = b} {ts = ts} e h) none class = in_target e (apart-all h none (below-after Class (pending_statements p y b) (finished_trees ts) class))
    apart-by (in_program {p = p} {y = y} {b = b} {ts = ts} e h) none class = in_program e (apart-all h none (below-after Class (pending_statements p y b) (finished_trees ts) class))
    apart-by (acts_on_list {n = n} {s = s} {s' = s'} {p = p} {q = q} {x = x} {y = y} {a = a} {b = b} ts us h) none class = acts_on_list ts us (spot-apart n s s' (at_list p x a ts) (at_list q y b us) h (λ z. z))
    apart-by (acts_on_body {n = n} {s = s} {s' = s'} {p = p} t u h) none class = acts_on_body t u (spot-apart n s s' (at_body p t) (at_node u) h (λ z. z))

    apart-all : {n : Site} {s s' : Ledger} {ts us : OpenTrees} → TreesStep Built n s ts s' us → belongs_to_arrow n.above ≡ false → BelowTrees Class (finished_trees ts) → TreesStep Further n s ts s' us
    apart-all (in_head h) none class = in_head (arrows-apart h none class.0)
    apart-all (in_tail h) none class = in_tail (apart-all h none class.1)
    apart-all (in_flanked {bs = bs} {cs = cs} {t = t} {ts = ts} h) none class = in_flanked (arrows-apart h none (below-joined Class (trees bs) (finished t before joined_trees (trees cs) (finished_trees ts)) class).0)
    apart-all (after_flanked {bs = bs} {cs = cs} {t = t} {ts = ts} h) none class =
        after_flanked (apart-all h none (below-joined Class (trees cs) (finished_trees ts) (below-joined Class (trees bs) (finished t before joined_trees (trees cs) (finished_trees ts)) class).1))
    apart-all (flanks {n = n} {s = s} {s' = s'} {bs = bs} {cs = cs} t u h) none class = flanks t u (spot-apart n s s' (at_node t) (at_beside bs u cs) h (λ z. z))
    apart-all (acts_on_flanked {n = n} {s = s} {s' = s'} {bs = bs} {cs = cs} t us h) none class = acts_on_flanked t us (spot-apart n s s' (at_beside bs t cs) (at_trees us) h (λ z. z))
