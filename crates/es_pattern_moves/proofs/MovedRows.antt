-- The rows of a walk act at nodes, ask nothing of the site, and keep form. So those in the body of an arrow that is an expression are steps of the
-- field where it stands.
use Rattle.std.proofs.Common.{◌≡◌, ◌∙◌, refl, sym, ap, subst}
use Rattle.std.specs.Prelude.{Bool, true, false}
use Rattle.es_tree.specs.HasForm.{has_form}
use Rattle.es_tree.specs.Tree.{Tree, Fields, Label, node}
use Rattle.es_tree.specs.declared.ast_type.AstType.{AstType}
use Rattle.es_tree.specs.declared.ast_type.AstType.TheVariants.{FunctionBody}
use Rattle.es_tree.specs.declared.table.Sort.{Sort}
use Rattle.es_tree.specs.declared.table.Sort.TheVariants.{ArrowFunctionBody as s-ArrowFunctionBody, Expression as s-Expression}
use Rattle.es_semantic.specs.RolesOf.{reads}
use Rattle.es_changes.proofs.Expressions.{body-expression}
use Rattle.es_steps.specs.LoopHeads.IsForEach.{for_in, for_of}
use Rattle.es_steps.specs.Open.{Open, Pending, body, finished, finished_fields, is_statement_body, opened}
use Rattle.es_steps.specs.Sites.{IsLocal}
use Rattle.es_steps.specs.Slots.{is_slot}
use Rattle.es_steps.specs.Steps.{FieldStep, Ledger, Site, Spot, Step, Steps, ledger, site_in_body}
use Rattle.es_steps.specs.Steps.Spot.{at_node}
use Rattle.es_steps.specs.Steps.Step.{acts, inside}
use Rattle.es_steps.specs.Steps.Steps.{goes, stays}
use Rattle.es_steps.proofs.FormOpen.{IsProper, opened-proper}
use Rattle.es_steps.proofs.FormRules.{AtNodes, FormLawful}
use Rattle.es_steps.proofs.FormSteps.{formed-after}
use Rattle.es_steps.proofs.Opened.{finished-opened}
use Rattle.es_steps.proofs.Taken.{pending_in, this_in, top_in, whole_in}
use Rattle.es_rest_steps.proofs.RowsInside.{body-row as body-inside, no_names}
use Rattle.es_pattern_moves.specs.MoveRows.{MoveWalkRow}
use Rattle.es_pattern_moves.specs.MoveRows.MoveWalkRow.{from_arrow, from_catch, from_declaration, from_expression, from_head, from_target, from_value}

-- A ROW acts at a node, wherever it stands, and leaves one that is a body of statements where it was

pub walk-only : (n : Site) (s s' : Ledger) (x y : Spot) → MoveWalkRow n s x s' y → AtNodes x y
walk-only n s s' x y (from_catch m l p bs z plain fresh) = tt
walk-only n s s' x y (from_head m l l' p e b z each moves fresh) = tt
walk-only n s s' x y (from_target m t e b z each rest fresh) = tt
walk-only n s s' x y (from_declaration m l ps qs ds ts us z called fresh moves) = tt
walk-only n s s' x y (from_expression m l ps qs ds ts us z called fresh moves) = tt
walk-only n s s' x y (from_arrow m l ps qs ds ts us z fresh moves) = tt
walk-only n s s' x y (from_value m ps e z value moves) = tt

pub walk-local : IsLocal (λ s. no_names) MoveWalkRow
walk-local n n' s s' x y alike (from_catch m l p bs z plain fresh) = from_catch m l p bs z plain fresh
walk-local n n' s s' x y alike (from_head m l l' p e b z each moves fresh) = from_head m l l' p e b z each moves fresh
walk-local n n' s s' x y alike (from_target m t e b z each rest fresh) = from_target m t e b z each rest fresh
walk-local n n' s s' x y alike (from_declaration m l ps qs ds ts us z called fresh moves) = from_declaration m l ps qs ds ts us z called fresh moves
walk-local n n' s s' x y alike (from_expression m l ps qs ds ts us z called fresh moves) = from_expression m l ps qs ds ts us z called fresh moves
walk-local n n' s s' x y alike (from_arrow m l ps qs ds ts us z fresh moves) = from_arrow m l ps qs ds ts us z fresh moves
walk-local n n' s s' x y alike (from_value m ps e z value moves) = from_value m ps e z value moves

abbrev IsBodyAt : Spot → Bool
IsBodyAt (at_node t) = is_statement_body t
IsBodyAt x = false

walk-bodies : (n : Site) (s s' : Ledger) (x y : Spot) → MoveWalkRow n s x s' y → IsBodyAt y ≡ IsBodyAt x
walk-bodies n s s' x y (from_catch m l p bs z plain fresh) = refl
walk-bodies n s s' x y (from_head m l l' p e b z for_in moves fresh) = refl
walk-bodies n s s' x y (from_head m l l' p e b z for_of moves fresh) = refl
walk-bodies n s s' x y (from_target m t e b z for_in rest fresh) = refl
walk-bodies n s s' x y (from_target m t e b z for_of rest fresh) = refl
walk-bodies n s s' x y (from_declaration m l ps qs ds ts us z called fresh moves) = refl
walk-bodies n s s' x y (from_expression m l ps qs ds ts us z called fresh moves) = refl
walk-bodies n s s' x y (from_arrow m l ps qs ds ts us z fresh moves) = refl
walk-bodies n s s' x y (from_value m ps e z value moves) = refl

pub same-body : (k : AstType) (l m : Label) (fs gs : Fields) → is_statement_body (node k m gs) ≡ is_statement_body (node k l fs)
same-body FunctionBody l m fs gs = refl
same-body _ l m fs gs = refl

-- FORM

module _ (law : FormLawful MoveWalkRow) where
  record Formed (a : Sort) (t : Open) : Type 0 where
    form : has_form a (finished t) ≡ true
    proper : IsProper t

  formed-step : {n : Site} {s s' : Ledger} {t u : Open} (a : Sort) → (is_slot n.above ≡ true → a ≡ s-Expression) → Step MoveWalkRow n s t s' u → Formed a t → Formed a u
  formed-step a slot h f = let r = formed-after MoveWalkRow law h a slot f.proper f.form in record { form = r.formed; proper = r.proper }

  formed-row : {n : Site} {s s' : Ledger} {t u : Open} (a : Sort) → (is_slot n.above ≡ true → a ≡ s-Expression) → Steps (Step MoveWalkRow n) s t s' u → Formed a t → Formed a u
  formed-row a slot stays f = f
  formed-row a slot (goes h rest) f = formed-row a slot rest (formed-step a slot h f)

  formed-opened : (a : Sort) (t : Tree) → has_form a t ≡ true → Formed a (opened t)
  formed-opened a t f = record { form = subst (λ (x : Tree). has_form a x ≡ true) (sym (finished-opened t)) f; proper = opened-proper t }

  -- of a tree after a row
  pub formed-tree : {n : Site} {s s' : Ledger} (a : Sort) (t u : Tree) → (is_slot n.above ≡ true → a ≡ s-Expression) → Steps (Step MoveWalkRow n) s (opened t) s' (opened u) → has_form a t ≡ true → has_form a u ≡ true
  formed-tree a t u slot row f = subst (λ (x : Tree). has_form a x ≡ true) (finished-opened u) (formed-row a slot row (formed-opened a t f)).form

  -- BODIES

  body-stays : {n : Site} {s s' : Ledger} {t u : Open} → Step MoveWalkRow n s t s' u → is_statement_body (finished u) ≡ is_statement_body (finished t)
  body-stays (acts {n = n} {s = s} {s' = s'} t u h) = ap is_statement_body (finished-opened u) ∙ walk-bodies n s s' (at_node t) (at_node u) h ∙ sym (ap is_statement_body (finished-opened t))
  body-stays (inside {k = k} {l = l} {fs = fs} {gs = gs} h) = same-body k l l (finished_fields fs) (finished_fields gs)

  -- what steps keep in an arrow's body that is an expression
  record FormedBody (t : Open) : Type 0 where
    form : Formed s-ArrowFunctionBody t
    expression : is_statement_body (finished t) ≡ false

  -- of a tree, as it is opened
  pub body-row : (n : Site) → n.role ≡ reads → (is_slot n.above ≡ true → s-ArrowFunctionBody ≡ s-Expression) → (o up : Pending) {s s' : Ledger} (t u : Tree) → has_form s-ArrowFunctionBody t ≡ true → is_statement_body t ≡ false → Steps (Step MoveWalkRow (site_in_body n up t)) s (opened t) s' (opened u) →
      Steps (FieldStep MoveWalkRow n) (ledger (whole_in s) o (this_in s) (top_in s)) (body (pending_in s) (opened t)) (ledger (whole_in s') o (this_in s') (top_in s')) (body (pending_in s') (opened u))
  body-row n role slot o up t u f e row =
      body-inside MoveWalkRow walk-local n role up t FormedBody (λ s s' t u h k. record { form = formed-step s-ArrowFunctionBody slot h k.form; expression = body-stays h ∙ k.expression }) (λ t k. body-expression (finished t) k.form.form k.expression) o row
      (record { form = formed-opened s-ArrowFunctionBody t f; expression = subst (λ (z : Tree). is_statement_body z ≡ false) (sym (finished-opened t)) e })
