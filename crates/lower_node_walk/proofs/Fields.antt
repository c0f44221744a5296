-- What is left of what stands in a field.
use Rattle.std.proofs.Common.{◌≡◌, ◌∙◌, ℕ, refl, sym, subst}
use Rattle.std.specs.Prelude.{Bool, true, false, Option, None, if◌then◌else◌}
use Rattle.es_tree.specs.HasForm.{has_form}
use Rattle.es_tree.specs.Tree.{Tree, missing, one, many, statements, Trees}
use Rattle.es_tree.specs.Walks.{any_node}
use Rattle.es_tree.specs.declared.ast_type.AstType.{AstType}
use Rattle.es_tree.specs.declared.table.Sort.{Sort}
use Rattle.es_resolution.specs.Declarations.{Bound}
use Rattle.es_changes.specs.Changes.{AsBody, Each, EachBy}
use Rattle.es_changes.specs.Moments.{Moment, whole_at}
use Rattle.es_changes.proofs.StepRows.{steps-map}
use Rattle.es_steps.specs.Open.{Additions, OpenField, Pending, body, child, children, is_body, is_statement_body, list, no_additions, nothing_pending, opened, opened_field, opened_trees}
use Rattle.es_steps.specs.Steps.{FieldStep, Site, Steps, is_program_list, is_target, ledger, site_in_body}
use Rattle.es_steps.specs.Steps.FieldStep.{in_child, in_children}
use Rattle.es_steps.specs.Steps.Steps.{stays}
use Rattle.lower_arrows.proofs.Rows.{list-row, program-row, target-row}
use Rattle.lower_nodes.specs.Nodes.{Alike, IsNodeLawful, NodeProfile}
use Rattle.lower_nodes.specs.Nodes.Alike.{changed, within}
use Rattle.lower_node_walk.specs.Walks.{IsInside, IsWalkable, LeftAmong, Walked, WalkedField, WalkedTrees}
use Rattle.lower_node_walk.proofs.Inward.{body-there}
use Rattle.lower_node_walk.proofs.Rules.{body-row, same-node}

module _ (p : NodeProfile) where
  abbrev Goes : Site → Moment → Moment → Pending → Option Bound → Additions → OpenField → OpenField → Type 0
  Goes n a b q x y f g = Steps (FieldStep p.rule n) (ledger (whole_at a) q x y) f (ledger (whole_at b) q x y) g

  pub missing-walked : (a : Moment) → WalkedField p a missing a missing
  missing-walked a k i n h fit bar = record { steps = λ q x y. none-in (is_body k i) q x y; none = refl; clear = refl }
    where
      none-in : (v : Bool) (q : Pending) (x : Option Bound) (y : Additions) → Goes n a a q x y (opened_field v missing) (opened_field v missing)
      none-in v q x y = stays

  -- ONE NODE

  body-alike : {t u : Tree} → Alike p.changes t u → is_statement_body u ≡ is_statement_body t
  body-alike (changed {k = k} {l = l} {fs = fs} {gs = gs} e) = same-node k l l fs gs
  body-alike (within {k = k} {l = l} {fs = fs} {gs = gs} h) = same-node k l l fs gs

  module _ (law : IsNodeLawful p) (a : Moment) (t : Tree) (b : Moment) (u : Tree) (w : Walked p a t b u) (same : Alike p.changes t u) where
    module _ (k : AstType) (i : ℕ) (n : Site) (h : IsInside k i n) (bar : p.barred k i t ≡ false) where
      as-child : IsWalkable p n t → (q : Pending) (x : Option Bound) (y : Additions) → Goes n a b q x y (child (opened t)) (child (opened u))
      as-child fit q x y = steps-map child (λ s s' c d r. in_child r) ((w k i n h.place fit bar).steps q x y)

      in-the-body : is_body k i ≡ true → is_statement_body t ≡ false → IsWalkable p (site_in_body n nothing_pending t) t → (q : Pending) (x : Option Bound) (y : Additions) → Goes n a b q x y (body nothing_pending (opened t)) (body nothing_pending (opened u))
      in-the-body e d fit q x y =
          let sort = fit.body (body-there k i n h.place ∙ e) in
          body-row p.rule law.rule n (h.role e) (λ c. sym sort ∙ fit.slot c) q nothing_pending t u (subst (λ (s : Sort). has_form s t ≡ true) sort fit.formed) d ((w k i (site_in_body n nothing_pending t) h.place fit bar).steps nothing_pending x y)

      by-body : is_body k i ≡ true → (v : Bool) → is_statement_body t ≡ v → AsBody (IsWalkable p) n v t → (q : Pending) (x : Option Bound) (y : Additions) → Goes n a b q x y (if v then child (opened t) else body nothing_pending (opened t)) (if v then child (opened u) else body nothing_pending (opened u))
      by-body e true d fit q x y = as-child fit q x y
      by-body e false d fit q x y = in-the-body e d fit q x y

      by-field : (v : Bool) → is_body k i ≡ v → EachBy (IsWalkable p) n v (one t) → (q : Pending) (x : Option Bound) (y : Additions) → Goes n a b q x y (opened_field v (one t)) (opened_field v (one u))
      by-field true e fit q x y =
          subst (λ (v : Bool). Goes n a b q x y (opened_field true (one t)) (if v then child (opened u) else body nothing_pending (opened u))) (sym (body-alike same)) (by-body e (is_statement_body t) refl fit q x y)
      by-field false e fit q x y = as-child fit q x y

      none-by : (v : Bool) → AsBody (IsWalkable p) n v t → (any_node p.constructs u ≡ false) × (any_node p.strays u ≡ false)
      none-by true fit = let left = w k i n h.place fit bar in (left.none, left.clear)
      none-by false fit = let left = w k i (site_in_body n nothing_pending t) h.place fit bar in (left.none, left.clear)

      none-in : (v : Bool) → EachBy (IsWalkable p) n v (one t) → (any_node p.constructs u ≡ false) × (any_node p.strays u ≡ false)
      none-in true fit = none-by (is_statement_body t) fit
      none-in false fit = none-by true fit

    pub one-walked : WalkedField p a (one t) b (one u)
    one-walked k i n h fit bar = let ends = none-in k i n h bar (is_body k i) fit in record { steps = by-field k i n h bar (is_body k i) refl fit; none = ends.0; clear = ends.1 }

  -- LISTS

  each-of : (n : Site) (v : Bool) (ts : Trees) → EachBy (IsWalkable p) n v (many ts) → Each (IsWalkable p) n ts
  each-of n true ts h = h
  each-of n false ts h = h

  each-in : (n : Site) (v : Bool) (ts : Trees) → EachBy (IsWalkable p) n v (statements ts) → Each (IsWalkable p) n ts
  each-in n true ts h = h
  each-in n false ts h = h

  module _ (a : Moment) (ts : Trees) (b : Moment) (us : Trees) (w : WalkedTrees p a ts b us) where
    many-by : (n : Site) (v : Bool) → LeftAmong p n a ts b us → (q : Pending) (x : Option Bound) (y : Additions) → Goes n a b q x y (opened_field v (many ts)) (opened_field v (many us))
    many-by n true left q x y = steps-map children (λ s s' c d r. in_children r) (left.steps q x y)
    many-by n false left q x y = steps-map children (λ s s' c d r. in_children r) (left.steps q x y)

    pub many-walked : WalkedField p a (many ts) b (many us)
    many-walked k i n h fit bar = let left = w k i n h.place (each-of n (is_body k i) ts fit) bar in record { steps = many-by n (is_body k i) left; none = left.none; clear = left.clear }

    -- whatever list it is
    pub list-steps : (n : Site) → LeftAmong p n a ts b us → (target whole : Bool) → is_target n.above ≡ target → is_program_list n.above ≡ whole → (q : Pending) (x : Option Bound) (y : Additions) →
        Goes n a b q x y (list nothing_pending None no_additions (opened_trees ts)) (list nothing_pending None no_additions (opened_trees us))
    list-steps n left true whole e d q x y = target-row p.rule n e q x no_additions (left.steps nothing_pending None y)
    list-steps n left false true e d q x y = program-row p.rule n d q x y (left.steps nothing_pending None no_additions)
    list-steps n left false false e d q x y = list-row p.rule n e d q None no_additions (left.steps nothing_pending x y)

    statements-by : (n : Site) (v : Bool) → LeftAmong p n a ts b us → (q : Pending) (x : Option Bound) (y : Additions) → Goes n a b q x y (opened_field v (statements ts)) (opened_field v (statements us))
    statements-by n true left q x y = list-steps n left (is_target n.above) (is_program_list n.above) refl refl q x y
    statements-by n false left q x y = list-steps n left (is_target n.above) (is_program_list n.above) refl refl q x y

    pub list-walked : WalkedField p a (statements ts) b (statements us)
    list-walked k i n h fit bar = let left = w k i n h.place (each-in n (is_body k i) ts fit) bar in record { steps = statements-by n (is_body k i) left; none = left.none; clear = left.clear }
