-- Steps of a walk from a program that has form, breaks no static rule, and whose names are bound are steps of the rows: after each of them the
-- program is so again, and so is each of its nodes.
use Rattle.std.proofs.Common.{◌≡◌, ◌∙◌, ℕ, refl, sym, ap, subst, List, [], ◌∷◌}
use Rattle.std.specs.Prelude.{Bool, true, false, Option, codes, if◌then◌else◌}
use Rattle.es_tree.specs.HasForm.{has_form}
use Rattle.es_tree.specs.Tree.{Tree, node, Label, Fields, Field, Trees, empty, ◌before◌, kind_of, trees}
use Rattle.es_tree.specs.Words.{Text}
use Rattle.es_tree.specs.declared.ast_type.AstType.{AstType}
use Rattle.es_tree.specs.declared.ast_type.AstType.TheVariants.{Program}
use Rattle.es_tree.specs.declared.table.Sort.TheVariants.{Program as s-Program}
use Rattle.es_tree.proofs.NodeForm.{node_form}
use Rattle.es_semantic.specs.RolesOf.{reads}
use Rattle.es_semantic.specs.declared.place.Role.{Role}
use Rattle.es_resolution.specs.Declarations.{Bound, is_var_scope}
use Rattle.es_resolution.specs.Named.{Named, NamedAll, NamedBy, NamedIn}
use Rattle.es_resolution.proofs.AllForms.{All, AllAmong, AllBy, AllIn}
use Rattle.es_steps.specs.Identifiers.{Passes, is_called}
use Rattle.es_steps.specs.Laws.{IsWellBound, nothing_beside}
use Rattle.es_steps.specs.Nodes.{joined_trees, return_node}
use Rattle.es_steps.specs.Open.{Additions, Open, OpenField, OpenFields, OpenTrees, Pending, after_imports, body_with, declaration, finished, finished_field, finished_fields, finished_trees, flanks_with, is_import, opened, pending_statements}
use Rattle.es_steps.specs.Steps.{FieldStep, FieldsStep, Ledger, Site, Spot, Step, Steps, TreesStep, Whole, the_program}
use Rattle.es_steps.specs.Steps.FieldStep.{acts_on_body, acts_on_list, in_body, in_child, in_children, in_list, in_program, in_target}
use Rattle.es_steps.specs.Steps.FieldsStep.{in_first, in_later}
use Rattle.es_steps.specs.Steps.Spot.{at_beside, at_body, at_list, at_node, at_trees}
use Rattle.es_steps.specs.Steps.Step.{acts, inside}
use Rattle.es_steps.specs.Steps.Steps.{goes, stays}
use Rattle.es_steps.specs.Steps.TreesStep.{acts_on_flanked, after_flanked, flanks, in_flanked, in_head, in_tail}
use Rattle.es_steps.proofs.Bodies.{body-named}
use Rattle.es_steps.proofs.BridgeInclusion.{step_under}
use Rattle.es_steps.proofs.CatchRests.{catch-rest-lawful}
use Rattle.es_steps.proofs.FormOpen.{IsProper, opened-proper}
use Rattle.es_steps.proofs.FormRules.{AtNodes, FormLawful, both-form}
use Rattle.es_steps.proofs.FormSteps.{formed-after}
use Rattle.es_steps.proofs.Heads.{head-lawful, target-lawful}
use Rattle.es_steps.proofs.Lists.{whole-named}
use Rattle.es_steps.proofs.Opened.{finished-opened}
use Rattle.es_steps.proofs.Parameters.{parameter-lawful}
use Rattle.es_steps.proofs.Passing.{called-passes}
use Rattle.es_steps.proofs.RulesWrite.{catch-rest-writes, head-writes, parameter-writes, target-writes}
use Rattle.es_steps.proofs.StepsKept.{all-recalled, led, none-beside}
use Rattle.es_steps.proofs.Taken.{Lawful, Writes, both-lawful, both-write, whole_in}
use Rattle.es_steps.proofs.Written.{named-joined}
use Rattle.es_valid_rests.proofs.FacedSteps.{FaceLawful, faced-after}
use Rattle.es_valid_rests.proofs.RestForms.{catch-rest-form, head-rest-form, target-head-form}
use Rattle.es_valid_rests.proofs.RestFormsMoved.{parameter-form}
use Rattle.es_valid_rests.proofs.RestPlacesFunctions.{parameter-faced}
use Rattle.es_valid_rests.proofs.RestPlacesHeads.{head-rest-faced, target-head-faced}
use Rattle.es_valid_rests.proofs.RestPlacesMoved.{catch-rest-faced}
use Rattle.es_valid_rests.proofs.RestSteps.{both-faced}
use Rattle.es_valid_steps.specs.PlaceRules.{Keeps}
use Rattle.es_valid_steps.proofs.Visits.{law_among_proof, law_places_proof}
use Rattle.es_arrow_bodies.proofs.BodyBindings.{body-lawful, body-writes}
use Rattle.es_arrow_bodies.proofs.BodyForms.{body-form}
use Rattle.es_arrow_bodies.proofs.BodyPlaces.{body-faced}
use Rattle.es_pattern_moves.specs.Laws.{LawMoveWalks}
use Rattle.es_pattern_moves.specs.MoveRows.{MoveRow, MoveWalkRow, MovesOut}
use Rattle.es_pattern_moves.specs.MoveRows.MoveWalkRow.{from_arrow, from_catch, from_declaration, from_expression, from_head, from_target, from_value}
use Rattle.es_pattern_moves.proofs.MoveNodes.{row-moves}
use Rattle.es_pattern_moves.proofs.Settled.{Sound, all-sound}

-- PARTS of lists and bodies with what is pending are sound

module _ (Q : AstType → Label → Fields → Type 0) where
  all-joined : (xs ts : Trees) → AllAmong Q (joined_trees xs ts) → AllAmong Q ts
  all-joined empty ts h = h
  all-joined (x before xs) ts h = all-joined xs ts h.1

  pub all-after : (bs ts : Trees) → AllAmong Q (after_imports bs ts) → AllAmong Q ts
  all-after bs empty h = tt
  all-after bs (t before ts) h = at (is_import t) (λ k. all-after bs ts k) h
    where
      at : (v : Bool) → (AllAmong Q (after_imports bs ts) → AllAmong Q ts) → AllAmong Q (if v then t before after_imports bs ts else joined_trees bs (t before ts)) → AllAmong Q (t before ts)
      at true rest h = (h.0, rest h.1)
      at false rest h = all-joined bs (t before ts) h

  all-declared : (kind : Text) (ds : List Tree) (ts : Trees) → AllAmong Q (declaration kind ds ts) → AllAmong Q ts
  all-declared kind [] ts h = h
  all-declared kind (d ∷ ds) ts h = h.1

  pub all-body : (vs ls : List Tree) (e : Tree) → All Q (body_with vs ls e) → All Q e
  all-body [] [] e h = h
  all-body [] (d ∷ ls) e h = h.1.1.0.1.0.1.0
  all-body (v ∷ vs) ls e h = (all-declared (codes "let") ls (return_node e before empty) h.1.1.0.1).0.1.0

  pub all-flanks : (bs cs : List Tree) (t : Tree) (ts : Trees) → AllAmong Q (flanks_with bs t cs ts) → All Q t × AllAmong Q ts
  all-flanks bs cs t ts h = let k = all-joined (trees bs) (t before joined_trees (trees cs) ts) h in (k.0, all-joined (trees cs) ts k.1)

pub named-flanks : (w : Whole) (r : Role) (bs cs : List Tree) (t : Tree) (ts : Trees) → NamedAll w.in_use w.free_symbol r (flanks_with bs t cs ts) → Named w.in_use w.free_symbol r t × NamedAll w.in_use w.free_symbol r ts
named-flanks w r bs cs t ts h =
    let k = (named-joined w.in_use w.free_symbol r (trees bs) (t before joined_trees (trees cs) ts) h).1 in
    (k.0, (named-joined w.in_use w.free_symbol r (trees cs) ts k.1).1)

-- WHAT IS KNOWN of a part at its place

abbrev pub Known : Whole → Role → Tree → Type 0
Known w r t = Named w.in_use w.free_symbol r t × All Sound t

abbrev pub KnownIn : Whole → (ℕ → Role) → Fields → Type 0
KnownIn w roles fs = NamedIn w.in_use w.free_symbol roles fs × AllIn Sound fs

abbrev pub KnownBy : Whole → Role → Field → Type 0
KnownBy w r f = NamedBy w.in_use w.free_symbol r f × AllBy Sound f

abbrev pub KnownAll : Whole → Role → Trees → Type 0
KnownAll w r ts = NamedAll w.in_use w.free_symbol r ts × AllAmong Sound ts

pub known-list : (w : Whole) (r : Role) (p : Pending) (x : Option Bound) (a : Additions) (ts : Trees) → KnownAll w r (after_imports (pending_statements p x a) ts) → KnownAll w r ts
known-list w r p x a ts h = (whole-named w.in_use w.free_symbol r p x a ts h.0, all-after Sound (pending_statements p x a) ts h.1)

-- ONE STEP

walk-nodes : (n : Site) (s s' : Ledger) (x y : Spot) → MoveWalkRow n s x s' y → AtNodes x y
walk-nodes n s s' x y (from_catch m l p bs z plain fresh) = tt
walk-nodes n s s' x y (from_head m l l' p e b z each head fresh) = tt
walk-nodes n s s' x y (from_target m t e b z each rest fresh) = tt
walk-nodes n s s' x y (from_declaration m l ps qs ds ts us z called fresh one) = tt
walk-nodes n s s' x y (from_expression m l ps qs ds ts us z called fresh one) = tt
walk-nodes n s s' x y (from_arrow m l ps qs ds ts us z fresh one) = tt
walk-nodes n s s' x y (from_value m ps e z value one) = tt

mutual
  step-there : {n : Site} {s s' : Ledger} {t u : Open} → Step MoveWalkRow n s t s' u → Known (whole_in s) n.role (finished t) → Step MoveRow n s t s' u
  step-there (acts {n = n} {s = s} {s' = s'} t u r) h = let k = subst (λ (z : Tree). Known (whole_in s) n.role z) (finished-opened t) h in acts t u (r, row-moves n s s' t u r k.0 k.1)
  step-there (inside r) h = inside (step-there-in r (h.0.1, h.1.1))

  step-there-in : {c : ℕ → Site} {s s' : Ledger} {fs gs : OpenFields} → FieldsStep MoveWalkRow c s fs s' gs → KnownIn (whole_in s) (λ i. (c i).role) (finished_fields fs) → FieldsStep MoveRow c s fs s' gs
  step-there-in (in_first r) h = in_first (step-there-by r (h.0.0, h.1.0))
  step-there-in (in_later r) h = in_later (step-there-in r (h.0.1, h.1.1))

  step-there-by : {n : Site} {s s' : Ledger} {f g : OpenField} → FieldStep MoveWalkRow n s f s' g → KnownBy (whole_in s) n.role (finished_field f) → FieldStep MoveRow n s f s' g
  step-there-by (in_child r) h = in_child (step-there r h)
  step-there-by (in_children r) h = in_children (step-there-all r h)
  step-there-by (in_body {n = n} {w = w} {p = p} {t = t} a b c r) h =
      let names : Named w.in_use w.free_symbol reads (body_with p.vars p.lets (finished t)) = subst (λ (q : Role). Named w.in_use w.free_symbol q (body_with p.vars p.lets (finished t))) a h.0 in
      in_body a b c (step-there r (body-named w.in_use w.free_symbol p.vars p.lets (finished t) names, all-body Sound p.vars p.lets (finished t) h.1))
  step-there-by (in_list {n = n} {w = w} {p = p} {y = y} {b = b} {ts = ts} d f r) h = in_list d f (step-there-all r (known-list w n.role p y b (finished_trees ts) h))
  step-there-by (in_target {n = n} {w = w} {p = p} {y = y} {b = b} {ts = ts} f r) h = in_target f (step-there-all r (known-list w n.role p y b (finished_trees ts) h))
  step-there-by (in_program {n = n} {w = w} {p = p} {y = y} {b = b} {ts = ts} f r) h = in_program f (step-there-all r (known-list w n.role p y b (finished_trees ts) h))
  step-there-by (acts_on_list {n = n} {s = s} {s' = s'} {p = p} {q = q} {x = x} {y = y} {a = a} {b = b} ts us r) h = absurd (walk-nodes n s s' (at_list p x a ts) (at_list q y b us) r)
  step-there-by (acts_on_body {n = n} {s = s} {s' = s'} {p = p} t u r) h = absurd (walk-nodes n s s' (at_body p t) (at_node u) r)

  step-there-all : {n : Site} {s s' : Ledger} {ts us : OpenTrees} → TreesStep MoveWalkRow n s ts s' us → KnownAll (whole_in s) n.role (finished_trees ts) → TreesStep MoveRow n s ts s' us
  step-there-all (in_head r) h = in_head (step-there r (h.0.0, h.1.0))
  step-there-all (in_tail r) h = in_tail (step-there-all r (h.0.1, h.1.1))
  step-there-all (in_flanked {n = n} {s = s} {bs = bs} {cs = cs} {t = t} {ts = ts} r) h = in_flanked (step-there r ((named-flanks (whole_in s) n.role bs cs (finished t) (finished_trees ts) h.0).0, (all-flanks Sound bs cs (finished t) (finished_trees ts) h.1).0))
  step-there-all (after_flanked {n = n} {s = s} {bs = bs} {cs = cs} {t = t} {ts = ts} r) h = after_flanked (step-there-all r ((named-flanks (whole_in s) n.role bs cs (finished t) (finished_trees ts) h.0).1, (all-flanks Sound bs cs (finished t) (finished_trees ts) h.1).1))
  step-there-all (flanks {n = n} {s = s} {s' = s'} {bs = bs} {cs = cs} t u r) h = absurd (walk-nodes n s s' (at_node t) (at_beside bs u cs) r)
  step-there-all (acts_on_flanked {n = n} {s = s} {s' = s'} {bs = bs} {cs = cs} t us r) h = absurd (walk-nodes n s s' (at_beside bs t cs) (at_trees us) r)

-- STEPS: the rules by which patterns move, and that by which arrows get a body

moves-lawful : Lawful MovesOut
moves-lawful = both-lawful (both-lawful catch-rest-lawful (both-lawful head-lawful (both-lawful target-lawful parameter-lawful))) body-lawful

moves-write : Writes MovesOut
moves-write = both-write (both-write catch-rest-writes (both-write head-writes (both-write target-writes parameter-writes))) body-writes

moves-form : FormLawful MovesOut
moves-form = both-form (both-form catch-rest-form (both-form head-rest-form (both-form target-head-form parameter-form))) body-form

moves-faced : FaceLawful MovesOut
moves-faced = both-faced (both-faced catch-rest-faced (both-faced head-rest-faced (both-faced target-head-faced parameter-faced))) body-faced

row-out : (n : Site) (s : Ledger) (x : Spot) (s' : Ledger) (y : Spot) → MoveRow n s x s' y → MovesOut n s x s' y
row-out n s x s' y h = h.1

-- one step more
one-more : {s s' s'' : Ledger} {t u v : Open} → Steps (Step MovesOut the_program) s t s' u → Step MovesOut the_program s' u s'' v → Steps (Step MovesOut the_program) s t s'' v
one-more stays r = goes r stays
one-more (goes a rest) r = goes a (one-more rest r)

pub program-scope : (t : Tree) → has_form s-Program t ≡ true → is_var_scope (kind_of t) ≡ true
program-scope (node Program l fs) h = refl
program-scope (node k l fs) h = absurd (let no : false ≡ true = (node_form s-Program k l fs h).sort in cc)

-- what is known of a program that steps led to
record Good (x : Open) : Type 0 where
  proper : IsProper x
  formed : has_form s-Program (finished x) ≡ true
  keeps : Keeps [] (finished x)

module _ (w : Whole) (t : Tree) (formed : has_form s-Program t ≡ true) (bound : IsWellBound w t) where
  -- the names of what is reached are in use
  reached-named : {s : Ledger} {x : Open} → Steps (Step MovesOut the_program) (nothing_beside w) (opened t) s x → Named (whole_in s).in_use (whole_in s).free_symbol reads (finished x)
  reached-named {s} {x} steps =
      let recalled = all-recalled MovesOut moves-lawful moves-write steps in
      let names = called-passes w.called (whole_in s).called w.free_symbol recalled.same w.in_use reads t bound.named bound.called bound.class_names in
      let opens = λ (P : Tree → Type 0) (z : P t). subst P (sym (finished-opened t)) z in
      (led MovesOut moves-lawful moves-write (whole_in s).called steps (λ m e. refl) (ap (λ (a : Tree). is_var_scope (kind_of a)) (finished-opened t) ∙ program-scope t formed) (opens (λ a. Named w.in_use w.free_symbol reads a) bound.named) (none-beside (is_called (whole_in s).called) w) (opens (λ a. Passes (is_called (whole_in s).called) a) names)).named

  walked : {s s' : Ledger} {x y : Open} → Steps (Step MovesOut the_program) (nothing_beside w) (opened t) s x → Good x → Steps (Step MoveWalkRow the_program) s x s' y → Steps (Step MoveRow the_program) s x s' y
  walked prior good stays = stays
  walked prior good (goes one rest) =
      let row = step-there one (reached-named prior, all-sound s-Program _ good.formed good.keeps) in
      let out = step_under MoveRow MovesOut row-out row in
      let left = formed-after MovesOut moves-form out s-Program (λ e. absurd (cc e)) good.proper good.formed in
      let faced = faced-after MovesOut moves-faced out s-Program [] (λ e. absurd (cc e)) good.proper good.formed good.keeps in
      goes row (walked (one-more prior out) (record { proper = left.proper; formed = left.formed; keeps = faced.keeps }) rest)

pub law_move_walks_proof : LawMoveWalks
law_move_walks_proof t u w w' formed kept bound steps =
    let opens = λ (P : Tree → Type 0) (z : P t). subst P (sym (finished-opened t)) z in
    let good : Good (opened t) = record { proper = opened-proper t; formed = opens (λ a. has_form s-Program a ≡ true) formed; keeps = opens (λ a. Keeps [] a) ((law_places_proof t).to_places (law_among_proof t kept)) } in
    walked w t formed bound stays good steps
