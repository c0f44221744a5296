-- The rule of the walk: it asks for no name, keeps form, and leaves what is a body of statements one.
use Rattle.std.proofs.Common.{◌≡◌, ◌∙◌, refl, sym, ap, subst, inl, inr, [], ◌∷◌}
use Rattle.std.specs.Prelude.{Bool, true, false, not, ◌||◌, Some}
use Rattle.es_tree.specs.HasForm.{has_form, is_of_sort}
use Rattle.es_tree.specs.Table.{takes_expressions}
use Rattle.es_tree.specs.Tree.{Tree, node, Label, Fields, done}
use Rattle.es_tree.specs.declared.ast_type.AstType.{AstType}
use Rattle.es_tree.specs.declared.ast_type.AstType.TheVariants.{FunctionBody, Identifier, ThisExpression}
use Rattle.es_tree.specs.declared.table.Sort.{Sort}
use Rattle.es_tree.specs.declared.table.Sort.TheVariants.{Expression as s-Expression, Program as s-Program}
use Rattle.es_tree.proofs.NodeForm.{node_form, has_form-node}
use Rattle.es_resolution.specs.Declarations.{Bound}
use Rattle.es_arrow_steps.specs.ArrowWalks.{ArrowWalkRule}
use Rattle.es_arrow_steps.specs.ArrowWalks.ArrowWalkRule.{by_pending_name, by_rule}
use Rattle.es_steps.specs.Arrows.{ArrowRule}
use Rattle.es_steps.specs.Arrows.ArrowRule.{by_name, by_new_name, with_body, with_expression}
use Rattle.es_steps.specs.Nodes.{identifier, made, placed}
use Rattle.es_steps.specs.Open.{Open, finished, finished_fields, is_statement_body, opened}
use Rattle.es_steps.specs.Rules.{Writing}
use Rattle.es_steps.specs.Rules.Writing.{declarators, all_pending, body_declarators, insertions}
use Rattle.es_steps.specs.Slots.{is_slot}
use Rattle.es_steps.specs.Steps.{Ledger, Site, Spot, Step, Steps}
use Rattle.es_steps.specs.Steps.Spot.{at_node}
use Rattle.es_steps.specs.Steps.Step.{acts, inside}
use Rattle.es_steps.specs.Steps.Steps.{goes, stays}
use Rattle.es_steps.specs.ThisPlaces.{belongs_to_arrow, reaches_target}
use Rattle.es_steps.proofs.FormLists.{HasText}
use Rattle.es_steps.proofs.FormOpen.{opened-tidy}
use Rattle.es_steps.proofs.FormParts.{IsFormed, IsText}
use Rattle.es_steps.proofs.FormRules.{AtNodes, LawfulIn, LeftIn, NodeLeft, both-form, nodes-only, writing-form}
use Rattle.es_steps.proofs.FormSorts.{form-wider}
use Rattle.es_steps.proofs.FormSteps.{tree-left}
use Rattle.es_steps.proofs.Opened.{finished-opened}
use Rattle.es_steps.proofs.Taken.{this_in}
use Rattle.es_valid_arrows.proofs.ArrowForms.{arrow-nodes, arrow-wide-form}
use Rattle.es_valid_arrows.proofs.Wide.{IsWide, WideNames, nothing-new, this_named}
use Rattle.lower_arrows.specs.Lowered.{walk_rule}
use Rattle.lower_arrows.proofs.Rows.{Nameless}

-- NO NAME IS ASKED FOR

writing-moves : (n m : Site) (s s' : Ledger) (x y : Spot) → Writing n s x s' y → Writing m s x s' y
writing-moves n m s s' x y declarators = declarators
writing-moves n m s s' x y all_pending = all_pending
writing-moves n m s s' x y body_declarators = body_declarators
writing-moves n m s s' x y insertions = insertions

-- the name that is pending is taken as it is
arrow-moves : (n m : Site) (s s' : Ledger) (x y : Spot) → m.role ≡ n.role → m.above ≡ n.above → ArrowRule n s x s' y → ArrowWalkRule m s x s' y
arrow-moves n m s s' x y r a (by_name role belongs reaches found used below) = by_pending_name (r ∙ role) (ap belongs_to_arrow a ∙ belongs) (ap reaches_target a ∙ reaches)
arrow-moves n m s s' x y r a (by_new_name role belongs reaches fresh) = by_rule (by_new_name (r ∙ role) (ap belongs_to_arrow a ∙ belongs) (ap reaches_target a ∙ reaches) fresh)
arrow-moves n m s s' x y r a (with_body none) = by_rule (with_body none)
arrow-moves n m s s' x y r a (with_expression e none) = by_rule (with_expression e none)

walk-moves : (n m : Site) (s s' : Ledger) (x y : Spot) → m.role ≡ n.role → m.above ≡ n.above → ArrowWalkRule n s x s' y → ArrowWalkRule m s x s' y
walk-moves n m s s' x y r a (by_pending_name role belongs reaches) = by_pending_name (r ∙ role) (ap belongs_to_arrow a ∙ belongs) (ap reaches_target a ∙ reaches)
walk-moves n m s s' x y r a (by_rule h) = arrow-moves n m s s' x y r a h

pub walk-nameless : Nameless walk_rule
walk-nameless n m s s' x y a (inl h) = inl (writing-moves n m s s' x y h)
walk-nameless n m s s' x y a (inr h) = inr (walk-moves n m s s' x y a.role a.above h)

-- FORM IS KEPT

or-second : (a b : Bool) → (not a || b) ≡ true → a ≡ true → b ≡ true
or-second true b e d = e
or-second false b e d = absurd (cc d)

all-wide : (s : Sort) → (not (is_of_sort s ThisExpression) || takes_expressions s) ≡ true
all-wide s-Program = refl
all-wide _ = refl

-- a name stands wherever `this` does
named-form : (a : Sort) (l : Label) (b : Bound) → IsText b → has_form a (node ThisExpression l done) ≡ true → has_form a (placed l (identifier b)) ≡ true
named-form a l b e h =
    let n = node_form a ThisExpression l done h in
    let bare : IsFormed (identifier b) = rw e refl in
    let named : Label = record (made (Some b.name ∷ []) []) { marks = b.symbol ∷ [] } in
    let m = node_form s-Expression Identifier named done bare in
    form-wider a (placed l (identifier b)) (or-second (is_of_sort a ThisExpression) (takes_expressions a) (all-wide a) n.sort)
    (has_form-node s-Expression Identifier (record named { start = l.start; stop = l.stop }) done (record { sort = refl; texts = m.texts; flags = refl; start = n.start; stop = n.stop; agree = refl; children = refl }))

walk-nodes : (n : Site) (s s' : Ledger) (x y : Spot) → ArrowWalkRule n s x s' y → AtNodes x y
walk-nodes n s s' x y (by_pending_name role belongs reaches) = tt
walk-nodes n s s' x y (by_rule h) = arrow-nodes n s s' x y h

walk-form : LawfulIn this_named walk_rule
walk-form = both-form (writing-form this_named (LeftIn this_named)) (nodes-only ArrowWalkRule walk-nodes nodes)
  where
    nodes : (n : Site) (s s' : Ledger) (t u : Tree) (a : Sort) → (is_slot n.above ≡ true → a ≡ s-Expression) → ArrowWalkRule n s (at_node t) s' (at_node u) → has_form a t ≡ true → HasText (this_in s) → NodeLeft WideNames a s s' u
    nodes n s s' t u a slot (by_pending_name {l = l} {b = b} role belongs reaches) f named = record { formed = named-form a l b named f; names = nothing-new s s' refl }
    nodes n s s' t u a slot (by_rule h) f named = arrow-wide-form.at_nodes n s s' t u a slot h f named

-- in a row
pub record Formed (a : Sort) (s : Ledger) (t : Open) : Type 0 where
  pub form : has_form a (finished t) ≡ true
  pub wide : IsWide t
  pub text : HasText (this_in s)

pub formed-step : {n : Site} {s s' : Ledger} {t u : Open} (a : Sort) → (is_slot n.above ≡ true → a ≡ s-Expression) → Step walk_rule n s t s' u → Formed a s t → Formed a s' u
formed-step a slot h f =
    let r = tree-left this_named walk_rule walk-form h f.text a slot f.wide f.form in
    record { form = r.formed; wide = r.proper; text = r.names.this f.text }

pub formed-row : {n : Site} {s s' : Ledger} {t u : Open} (a : Sort) → (is_slot n.above ≡ true → a ≡ s-Expression) → Steps (Step walk_rule n) s t s' u → Formed a s t → Formed a s' u
formed-row a slot stays f = f
formed-row a slot (goes h rest) f = formed-row a slot rest (formed-step a slot h f)

pub formed-opened : (a : Sort) (s : Ledger) (t : Tree) → has_form a t ≡ true → HasText (this_in s) → Formed a s (opened t)
formed-opened a s t f h = record { form = subst (λ (x : Tree). has_form a x ≡ true) (sym (finished-opened t)) f; wide = opened-tidy this_named t; text = h }

-- of a tree after the row
pub formed-after : {n : Site} {s s' : Ledger} (a : Sort) (t u : Tree) → (is_slot n.above ≡ true → a ≡ s-Expression) → Steps (Step walk_rule n) s (opened t) s' (opened u) → has_form a t ≡ true → HasText (this_in s) → has_form a u ≡ true
formed-after {s = s} a t u slot row f h = subst (λ (x : Tree). has_form a x ≡ true) (finished-opened u) (formed-row a slot row (formed-opened a s t f h)).form

-- WHAT IS A BODY OF STATEMENTS stays one

kind-stays : (n : Site) (s s' : Ledger) (t u : Tree) → walk_rule n s (at_node t) s' (at_node u) → is_statement_body u ≡ is_statement_body t
kind-stays n s s' t u (inl h) = absurd (no-writing n s s' t u h)
  where
    no-writing : (n : Site) (s s' : Ledger) (t u : Tree) → Writing n s (at_node t) s' (at_node u) → ⊥
    no-writing n s s' t u h = elim h [ ]
kind-stays n s s' t u (inr (by_pending_name role belongs reaches)) = refl
kind-stays n s s' t u (inr (by_rule (by_name role belongs reaches found used below))) = refl
kind-stays n s s' t u (inr (by_rule (by_new_name role belongs reaches fresh))) = refl
kind-stays n s s' t u (inr (by_rule (with_body none))) = refl
kind-stays n s s' t u (inr (by_rule (with_expression e none))) = refl

pub same-node : (k : AstType) (l m : Label) (fs gs : Fields) → is_statement_body (node k m gs) ≡ is_statement_body (node k l fs)
same-node FunctionBody l m fs gs = refl
same-node _ l m fs gs = refl

pub body-stays : {n : Site} {s s' : Ledger} {t u : Open} → Step walk_rule n s t s' u → is_statement_body (finished u) ≡ is_statement_body (finished t)
body-stays (acts {n = n} {s = s} {s' = s'} t u h) = ap is_statement_body (finished-opened u) ∙ kind-stays n s s' t u h ∙ sym (ap is_statement_body (finished-opened t))
body-stays (inside {k = k} {l = l} {fs = fs} {gs = gs} h) = same-node k l l (finished_fields fs) (finished_fields gs)
