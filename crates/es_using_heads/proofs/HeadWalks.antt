-- Steps of a walk from a program that has form, breaks no static rule, and whose names are bound are steps of the rules of `using`: after each of them
-- the program is so again, and so is each of its nodes.
use Rattle.std.proofs.Common.{◌≡◌, ℕ, refl, sym, ap, subst, ◌∙◌, inr, []}
use Rattle.std.specs.Prelude.{true}
use Rattle.es_tree.specs.HasForm.{has_form}
use Rattle.es_tree.specs.StaticRules.{breaks}
use Rattle.es_tree.specs.Tree.{Tree, kind_of}
use Rattle.es_tree.specs.declared.table.Sort.TheVariants.{Program as s-Program}
use Rattle.es_semantic.specs.RolesOf.{reads}
use Rattle.es_semantic.specs.declared.place.Role.{Role}
use Rattle.es_resolution.specs.Declarations.{is_var_scope}
use Rattle.es_resolution.specs.Named.{Named}
use Rattle.es_steps.specs.AllRules.{UsingRule}
use Rattle.es_steps.specs.Identifiers.{Passes, is_called}
use Rattle.es_steps.specs.Laws.{IsWellBound, nothing_beside}
use Rattle.es_steps.specs.Open.{Open, OpenField, OpenFields, OpenTrees, body_with, finished, finished_field, finished_fields, finished_trees, opened}
use Rattle.es_steps.specs.Steps.{FieldStep, FieldsStep, Ledger, Site, Spot, Step, Steps, TreesStep, Whole, the_program}
use Rattle.es_steps.specs.Steps.FieldStep.{acts_on_body, acts_on_list, in_body, in_child, in_children, in_list, in_program, in_target}
use Rattle.es_steps.specs.Steps.FieldsStep.{in_first, in_later}
use Rattle.es_steps.specs.Steps.Spot.{at_beside, at_body, at_list, at_node, at_trees}
use Rattle.es_steps.specs.Steps.Step.{acts, inside}
use Rattle.es_steps.specs.Steps.Steps.{goes, stays}
use Rattle.es_steps.specs.Steps.TreesStep.{acts_on_flanked, after_flanked, flanks, in_flanked, in_head, in_tail}
use Rattle.es_steps.specs.UsingLoops.{HeadUsing}
use Rattle.es_steps.proofs.Bodies.{body-named}
use Rattle.es_steps.proofs.BridgeInclusion.{step_under}
use Rattle.es_steps.proofs.FormOpen.{IsProper, opened-proper}
use Rattle.es_steps.proofs.HeadUsings.{head-using-lawful, head-using-writes}
use Rattle.es_steps.proofs.Opened.{finished-opened}
use Rattle.es_steps.proofs.Passing.{called-passes}
use Rattle.es_steps.proofs.StepsKept.{all-recalled, led, none-beside}
use Rattle.es_steps.proofs.Taken.{whole_in}
use Rattle.es_valid_steps.specs.PlaceRules.{Keeps}
use Rattle.es_valid_steps.proofs.Visits.{law_among_proof, law_places_proof}
use Rattle.es_valid_using.proofs.UsingMoves.{after-step}
use Rattle.es_valid_using.proofs.UsingPlacesHeads.{head-using}
use Rattle.es_valid_using.proofs.UsingTrees.{TreeAfter, tree-after}
use Rattle.es_pattern_moves.proofs.MoveWalks.{Known, KnownAll, KnownBy, KnownIn, all-body, all-flanks, known-list, named-flanks, program-scope}
use Rattle.es_pattern_moves.proofs.Settled.{Sound, all-sound}
use Rattle.es_using_heads.specs.HeadRows.{HeadWalkRow}
use Rattle.es_using_heads.proofs.HeadNodes.{row-uses}
use Rattle.es_using_heads.proofs.HeadForms.{walk-only}

-- ONE STEP

mutual
  step-there : {n : Site} {s s' : Ledger} {t u : Open} → Step HeadWalkRow n s t s' u → Known (whole_in s) n.role (finished t) → Step HeadUsing n s t s' u
  step-there (acts {n = n} {s = s} {s' = s'} t u r) h = let k = subst (λ (z : Tree). Known (whole_in s) n.role z) (finished-opened t) h in acts t u (row-uses n s s' t u r k.0 k.1)
  step-there (inside r) h = inside (step-there-in r (h.0.1, h.1.1))

  step-there-in : {c : ℕ → Site} {s s' : Ledger} {fs gs : OpenFields} → FieldsStep HeadWalkRow c s fs s' gs → KnownIn (whole_in s) (λ i. (c i).role) (finished_fields fs) → FieldsStep HeadUsing c s fs s' gs
  step-there-in (in_first r) h = in_first (step-there-by r (h.0.0, h.1.0))
  step-there-in (in_later r) h = in_later (step-there-in r (h.0.1, h.1.1))

  step-there-by : {n : Site} {s s' : Ledger} {f g : OpenField} → FieldStep HeadWalkRow n s f s' g → KnownBy (whole_in s) n.role (finished_field f) → FieldStep HeadUsing n s f s' g
  step-there-by (in_child r) h = in_child (step-there r h)
  step-there-by (in_children r) h = in_children (step-there-all r h)
  step-there-by (in_body {n = n} {w = w} {p = p} {t = t} a b c r) h =
      let names : Named w.in_use w.free_symbol reads (body_with p.vars p.lets (finished t)) = subst (λ (q : Role). Named w.in_use w.free_symbol q (body_with p.vars p.lets (finished t))) a h.0 in
      in_body a b c (step-there r (body-named w.in_use w.free_symbol p.vars p.lets (finished t) names, all-body Sound p.vars p.lets (finished t) h.1))
  step-there-by (in_list {n = n} {w = w} {p = p} {y = y} {b = b} {ts = ts} d f r) h = in_list d f (step-there-all r (known-list w n.role p y b (finished_trees ts) h))
  step-there-by (in_target {n = n} {w = w} {p = p} {y = y} {b = b} {ts = ts} f r) h = in_target f (step-there-all r (known-list w n.role p y b (finished_trees ts) h))
  step-there-by (in_program {n = n} {w = w} {p = p} {y = y} {b = b} {ts = ts} f r) h = in_program f (step-there-all r (known-list w n.role p y b (finished_trees ts) h))
  step-there-by (acts_on_list {n = n} {s = s} {s' = s'} {p = p} {q = q} {x = x} {y = y} {a = a} {b = b} ts us r) h = absurd (walk-only n s s' (at_list p x a ts) (at_list q y b us) r)
  step-there-by (acts_on_body {n = n} {s = s} {s' = s'} {p = p} t u r) h = absurd (walk-only n s s' (at_body p t) (at_node u) r)

  step-there-all : {n : Site} {s s' : Ledger} {ts us : OpenTrees} → TreesStep HeadWalkRow n s ts s' us → KnownAll (whole_in s) n.role (finished_trees ts) → TreesStep HeadUsing n s ts s' us
  step-there-all (in_head r) h = in_head (step-there r (h.0.0, h.1.0))
  step-there-all (in_tail r) h = in_tail (step-there-all r (h.0.1, h.1.1))
  step-there-all (in_flanked {n = n} {s = s} {bs = bs} {cs = cs} {t = t} {ts = ts} r) h = in_flanked (step-there r ((named-flanks (whole_in s) n.role bs cs (finished t) (finished_trees ts) h.0).0, (all-flanks Sound bs cs (finished t) (finished_trees ts) h.1).0))
  step-there-all (after_flanked {n = n} {s = s} {bs = bs} {cs = cs} {t = t} {ts = ts} r) h = after_flanked (step-there-all r ((named-flanks (whole_in s) n.role bs cs (finished t) (finished_trees ts) h.0).1, (all-flanks Sound bs cs (finished t) (finished_trees ts) h.1).1))
  step-there-all (flanks {n = n} {s = s} {s' = s'} {bs = bs} {cs = cs} t u r) h = absurd (walk-only n s s' (at_node t) (at_beside bs u cs) r)
  step-there-all (acts_on_flanked {n = n} {s = s} {s' = s'} {bs = bs} {cs = cs} t us r) h = absurd (walk-only n s s' (at_beside bs t cs) (at_trees us) r)

-- STEPS

one-of-using : (n : Site) (s : Ledger) (x : Spot) (s' : Ledger) (y : Spot) → HeadUsing n s x s' y → UsingRule n s x s' y
one-of-using n s x s' y h = inr (inr (inr (inr h)))

-- one step more
one-more : {s s' s'' : Ledger} {t u v : Open} → Steps (Step HeadUsing the_program) s t s' u → Step HeadUsing the_program s' u s'' v → Steps (Step HeadUsing the_program) s t s'' v
one-more stays r = goes r stays
one-more (goes a rest) r = goes a (one-more rest r)

-- what is known of a program that steps led to
record Good (x : Open) : Type 0 where
  proper : IsProper x
  formed : has_form s-Program (finished x) ≡ true
  keeps : Keeps [] (finished x)

good-after : {s s' : Ledger} {x y : Open} → Step HeadUsing the_program s x s' y → Good x → Good y
good-after h good =
    let next = after-step HeadUsing head-using.alone h good.proper in
    let left : TreeAfter s-Program _ _ = tree-after HeadUsing head-using next.becomes s-Program (λ e. refl) good.formed in
    record { proper = next.proper; formed = left.formed; keeps = left.keeps [] good.keeps }

module _ (w : Whole) (t : Tree) (formed : has_form s-Program t ≡ true) (bound : IsWellBound w t) where
  -- the names of what is reached are in use
  reached-named : {s : Ledger} {x : Open} → Steps (Step HeadUsing the_program) (nothing_beside w) (opened t) s x → Named (whole_in s).in_use (whole_in s).free_symbol reads (finished x)
  reached-named {s} {x} steps =
      let recalled = all-recalled HeadUsing head-using-lawful head-using-writes steps in
      let names = called-passes w.called (whole_in s).called w.free_symbol recalled.same w.in_use reads t bound.named bound.called bound.class_names in
      let opens = λ (P : Tree → Type 0) (z : P t). subst P (sym (finished-opened t)) z in
      (led HeadUsing head-using-lawful head-using-writes (whole_in s).called steps (λ m e. refl) (ap (λ (a : Tree). is_var_scope (kind_of a)) (finished-opened t) ∙ program-scope t formed) (opens (λ a. Named w.in_use w.free_symbol reads a) bound.named) (none-beside (is_called (whole_in s).called) w) (opens (λ a. Passes (is_called (whole_in s).called) a) names)).named

  walked : {s s' : Ledger} {x y : Open} → Steps (Step HeadUsing the_program) (nothing_beside w) (opened t) s x → Good x → Steps (Step HeadWalkRow the_program) s x s' y → Steps (Step UsingRule the_program) s x s' y
  walked prior good stays = stays
  walked prior good (goes one rest) =
      let step = step-there one (reached-named prior, all-sound s-Program _ good.formed good.keeps) in
      goes (step_under HeadUsing UsingRule one-of-using step) (walked (one-more prior step) (good-after step good) rest)

pub walks : (t u : Tree) (w w' : Whole) → has_form s-Program t ≡ true → breaks t ≡ [] → IsWellBound w t → Steps (Step HeadWalkRow the_program) (nothing_beside w) (opened t) (nothing_beside w') (opened u) → Steps (Step UsingRule the_program) (nothing_beside w) (opened t) (nothing_beside w') (opened u)
walks t u w w' formed kept bound steps =
    let opens = λ (P : Tree → Type 0) (z : P t). subst P (sym (finished-opened t)) z in
    let good : Good (opened t) = record { proper = opened-proper t; formed = opens (λ a. has_form s-Program a ≡ true) formed; keeps = opens (λ a. Keeps [] a) ((law_places_proof t).to_places (law_among_proof t kept)) } in
    walked w t formed bound stays good steps
