-- Steps leave arrows that can become functions, whatever rules are taken that each leave them so.
use Rattle.std.proofs.Common.{◌≡◌, ◌+◌, ◌==◌, ℕ, zero, suc, refl, sym, ap, subst, ◌∙◌, List, [], ◌∷◌, arith}
use Rattle.std.specs.Prelude.{◌&&◌, ◌||◌, not, Bool, true, false, Some, if◌then◌else◌}
use Rattle.std.proofs.lemmas.Bool.{and_parts, or_from}
use Rattle.es_tree.specs.Ancestors.{Ancestor, ancestor, is_field_value, is_function, stands_in}
use Rattle.es_tree.specs.Children.{child_at, only_child}
use Rattle.es_tree.specs.Constructs.{any_kind, field_at, has_member, is_rest}
use Rattle.es_tree.specs.HasForm.{has_form, same_type}
use Rattle.es_tree.specs.Tree.{Tree, node, Label, Fields, done, ◌then◌, Field, missing, one, many, statements, Trees, empty, ◌before◌, kind_of}
use Rattle.es_tree.specs.declared.ast_type.AstType.{AstType}
use Rattle.es_tree.specs.declared.ast_type.AstType.TheVariants.{ArrowFunctionExpression, AssignmentExpression, BigIntLiteral, FunctionBody, FunctionDeclaration, FunctionExpression, MemberExpression, ObjectProperty, ObjectTarget, ParenthesizedExpression, PrivateIdentifier, Program, RestElement, StaticBlock, Super, TargetRest, ThisExpression, UnaryExpression}
use Rattle.es_tree.specs.declared.options.EnvOptions.{EnvOptions}
use Rattle.es_tree.specs.declared.table.Sort.{Sort}
use Rattle.es_tree.specs.declared.table.Sort.TheVariants.{ArrowFunctionBody as s-ArrowFunctionBody, Expression as s-Expression}
use Rattle.es_semantic.proofs.FormEdges.{Edges, EdgesAll, EdgesBy, EdgesIn, is_last}
use Rattle.es_resolution.specs.Declarations.{is_var_scope}
use Rattle.es_steps.specs.Nodes.{joined_trees}
use Rattle.es_steps.specs.Open.{Pending, after_imports, is_body, is_import, pending_statements, whole_list, written_body, Open, OpenFields, OpenField, OpenTrees, opened, finished, finished_fields, finished_field, finished_trees}
use Rattle.es_steps.specs.Slots.{closes, holds, holds_field, holds_fields, is_in_parameter, is_slot, leads_to_value}
use Rattle.es_steps.specs.Steps.{Ledger, Site, Spot, is_program_list, is_target, outline, site_in, Step, FieldsStep, FieldStep, TreesStep}
use Rattle.es_steps.specs.Steps.Step.{acts, inside}
use Rattle.es_steps.specs.Steps.FieldsStep.{in_first, in_later}
use Rattle.es_steps.specs.Steps.FieldStep.{in_child, in_body, in_children, in_list, in_target, in_program, acts_on_body, acts_on_list}
use Rattle.es_steps.specs.Steps.TreesStep.{in_head, in_tail, in_flanked, after_flanked, flanks, acts_on_flanked}
use Rattle.es_steps.specs.ThisPlaces.{keeps_this}
use Rattle.es_steps.specs.WrapRule.{is_wrapped_for}
use Rattle.es_steps.proofs.FormLists.{HasText, IsPlain, body-inside as formed-inside}
use Rattle.es_steps.proofs.FormRules.{no-names}
use Rattle.es_steps.proofs.FormSteps.{plain-more}
use Rattle.es_steps.proofs.Opened.{finished-opened, finished-trees}
use Rattle.es_steps.proofs.Taken.{this_in}
use Rattle.es_arrow_steps.specs.ThisFits.{reaches_in}
use Rattle.es_valid_steps.specs.ArrowNodes.{is_arrow_accessor, is_kind_within, is_this_within}
use Rattle.es_valid_steps.proofs.Changed.{this-inside}
use Rattle.es_valid_steps.proofs.FieldForms.{FieldHas, FieldsHave, TreesHave, node-have, rest-have}
use Rattle.es_conditions.proofs.Marks.{first-of, or-second, second-of}
use Rattle.es_valid_arrows.specs.ArrowPlaces.{arrow_in, is_outer, parameter_in}
use Rattle.es_valid_arrows.proofs.Fits.{ArrowsFit, ArrowsFitAll, ArrowsFitBy, ArrowsFitIn}
use Rattle.es_valid_arrows.proofs.FitRules.{FitLawful, Marked}
use Rattle.es_valid_arrows.proofs.FitTrees.{FitSeen, body-fit, fit-after, fit-body, lower-by, outside-names, whole-fit, whole-named}
use Rattle.es_valid_arrows.proofs.HeldRows.{None_among, None_in, None_of}
use Rattle.es_valid_arrows.proofs.HeldTrees.{body-none, none-after, none-body, whole-none}
use Rattle.es_valid_arrows.proofs.Nested.{edges-nested, is_body_place, nested}
use Rattle.es_valid_arrows.proofs.Wide.{AreWideFields, AreWideTrees, IsWide, IsWideField, WideLawful, WideNames, listed-more, nothing-new}
use Rattle.es_valid_arrows.proofs.WrappedParts.{SeenAlike, is_seen, seen-inside, seen-many, seen-same, seen-statements, wrapped-alike}

-- WHAT A STEP LEAVES

pub record TreeFit (o : EnvOptions) (n : Site) (arrow parameter reaches : Bool) (s s' : Ledger) (t u : Tree) : Type 0 where
  pub fits : ArrowsFit o arrow parameter reaches u
  pub seen : FitSeen t u
  pub alike : is_slot n.above ≡ false → SeenAlike (one t) (one u)
  pub none : None_of o t → None_of o u
  pub names : WideNames s s'

-- but for the body of an arrow
record FieldFit (o : EnvOptions) (n : Site) (arrow parameter reaches b : Bool) (s s' : Ledger) (f g : Field) : Type 0 where
  fits : ArrowsFitBy o arrow parameter reaches g
  alike : b ≡ false → is_slot n.above ≡ false → SeenAlike f g
  none : None_in o f → None_in o g
  this : b ≡ false → is_this_within (only_child f) ≡ false → is_this_within (only_child g) ≡ false
  arrow_kind : b ≡ false → is_kind_within ArrowFunctionExpression (only_child f) ≡ false → is_kind_within ArrowFunctionExpression (only_child g) ≡ false
  names : WideNames s s'

-- the first two fields are seen
record FieldsFit (o : EnvOptions) (c : ℕ → Site) (closed : ℕ → Bool) (arrows : ℕ → Field → Bool) (parameters reaches bodies : ℕ → Bool) (s s' : Ledger) (fs gs : Fields) : Type 0 where
  fits : ArrowsFitIn o arrows parameters reaches gs
  alike : (i : ℕ) → bodies i ≡ false → is_slot (c i).above ≡ false → SeenAlike (field_at i fs) (field_at i gs)
  none : holds_fields (is_wrapped_for o) closed fs ≡ false → holds_fields (is_wrapped_for o) closed gs ≡ false
  this : bodies zero ≡ false → is_this_within (child_at 0 fs) ≡ false → is_this_within (child_at 0 gs) ≡ false
  first_kind : bodies zero ≡ false → is_kind_within ArrowFunctionExpression (child_at 0 fs) ≡ false → is_kind_within ArrowFunctionExpression (child_at 0 gs) ≡ false
  second_kind : bodies 1 ≡ false → is_kind_within ArrowFunctionExpression (child_at 1 fs) ≡ false → is_kind_within ArrowFunctionExpression (child_at 1 gs) ≡ false
  names : WideNames s s'

record TreesFit (o : EnvOptions) (arrow parameter reaches : Bool) (s s' : Ledger) (ts us : Trees) : Type 0 where
  fits : ArrowsFitAll o arrow parameter reaches us
  rests : has_member is_rest (many us) ≡ has_member is_rest (many ts)
  none : None_among o ts → None_among o us
  names : WideNames s s'

-- A NODE whose fields took a step

and-kept : (a b c : Bool) → (b ≡ false → c ≡ false) → (a && b) ≡ false → (a && c) ≡ false
and-kept true b c h e = h e
and-kept false b c h e = refl

or-none : (b : Bool) → b ≡ (b || false)
or-none true = refl
or-none false = refl

own-kept : (reaches : Bool) (k : AstType) (l : Label) (fs gs : Fields) (arrow : Bool) → (is_body k 0 ≡ false → is_this_within (child_at 0 fs) ≡ false → is_this_within (child_at 0 gs) ≡ false) → (is_body k 1 ≡ false → is_kind_within ArrowFunctionExpression (child_at 1 fs) ≡ false → is_kind_within ArrowFunctionExpression (child_at 1 gs) ≡ false) →
    ((is_outer reaches k l fs && arrow) || is_arrow_accessor k l fs) ≡ false → ((is_outer reaches k l gs && arrow) || is_arrow_accessor k l gs) ≡ false
own-kept reaches Super l fs gs arrow h g e = e
own-kept reaches ThisExpression l fs gs arrow h g e = e
own-kept reaches UnaryExpression l fs gs arrow h g e = at (is_outer reaches UnaryExpression l fs) (is_outer reaches UnaryExpression l gs) arrow (and-kept _ (is_this_within (child_at 0 fs)) (is_this_within (child_at 0 gs)) (h refl)) e
  where
    at : (x y b : Bool) → (x ≡ false → y ≡ false) → ((x && b) || false) ≡ false → ((y && b) || false) ≡ false
    at true true b h e = e
    at true false b h e = refl
    at false true b h e = absurd (let d = h refl in cc d)
    at false false b h e = refl
own-kept reaches ObjectProperty l fs gs arrow h g e = and-kept _ (is_kind_within ArrowFunctionExpression (child_at 1 fs)) (is_kind_within ArrowFunctionExpression (child_at 1 gs)) (g refl) e
own-kept reaches _ l fs gs arrow h g e = refl

-- in parentheses what is inside is seen
this-kept : (k : AstType) (l : Label) (fs gs : Fields) → (is_body k 0 ≡ false → is_this_within (child_at 0 fs) ≡ false → is_this_within (child_at 0 gs) ≡ false) → is_this_within (Some (node k l fs)) ≡ false → is_this_within (Some (node k l gs)) ≡ false
this-kept ParenthesizedExpression l fs gs h e = this-inside l gs ∙ h refl (sym (this-inside l fs) ∙ e)
this-kept _ l fs gs h e = e

-- MARKS inwards

pub marked-in : (o : EnvOptions) (n : Site) (held arrow parameter : Bool) → Marked o n held arrow parameter → (k : AstType) (l : Label) (fs : OpenFields) (i : ℕ) (f : Field) → Marked o (site_in n k l fs i) (holds_field (is_wrapped_for o) f) (arrow_in o arrow parameter (ancestor k l done i 0) f) (parameter_in parameter (ancestor k l done i 0))
marked-in o n held arrow parameter m k l fs i f = record {
  parameter_is = ap (λ q. parameter_in q (ancestor k l done i 0)) m.parameter_is;
  in_slot = λ e w. slot-state parameter (is_in_parameter n.above) m.parameter_is e w;
  belongs = λ e. belongs-state (keeps_this (ancestor k l done i 0)) (same_type k ArrowFunctionExpression) _ m.belongs e;
}
  where
    belongs-state : (kept own slot : Bool) {b : Bool} → (b ≡ true → arrow ≡ true) → (not kept && (own || b)) ≡ true → (slot || (not kept && (own || arrow))) ≡ true
    belongs-state kept own true h e = refl
    belongs-state true own false h e = absurd (cc e)
    belongs-state false true false h e = refl
    belongs-state false false false h e = h e

    either-true : (s w r : Bool) → s ≡ true → w ≡ true → ((s && w) || r) ≡ true
    either-true true true r e d = refl
    either-true true false r e d = absurd (cc d)
    either-true false w r e d = absurd (cc e)

    slot-state : (p q : Bool) → p ≡ q → (is_field_value (ancestor k l done i 0) || (leads_to_value (ancestor k l done i 0) && q)) ≡ true → holds_field (is_wrapped_for o) f ≡ true → arrow_in o arrow p (ancestor k l done i 0) f ≡ true
    slot-state p q d e w = either-true _ (holds_field (is_wrapped_for o) f) _ (ap (λ r. is_field_value (ancestor k l done i 0) || (leads_to_value (ancestor k l done i 0) && r)) d ∙ e) w

-- the body of an arrow belongs to it, and is no parameter
pub body-states : (o : EnvOptions) (arrow parameter : Bool) (k : AstType) (l : Label) (i : ℕ) → is_body k i ≡ true → (f : Field) → (arrow_in o arrow parameter (ancestor k l done i 0) f ≡ true) × (parameter_in parameter (ancestor k l done i 0) ≡ false)
body-states o arrow parameter ArrowFunctionExpression l zero e f = absurd (cc e)
body-states o arrow parameter ArrowFunctionExpression l (suc zero) e f = (refl, refl)
body-states o arrow parameter ArrowFunctionExpression l (suc (suc i)) e f = absurd (cc e)
body-states o arrow parameter k l i e f = absurd (cc e)

-- where a slot holds less, less belongs to an arrow
slot-less : (s kept own arrow w v : Bool) → (w ≡ false → v ≡ false) → ((s && v) || (not kept && (own || arrow))) ≡ true → ((s && w) || (not kept && (own || arrow))) ≡ true
slot-less false kept own arrow w v h e = e
slot-less true kept own arrow true v h e = refl
slot-less true kept own arrow false true h e = absurd (let d = h refl in cc d)
slot-less true kept own arrow false false h e = e

arrow-less : (o : EnvOptions) (arrow parameter : Bool) (a : Ancestor) (f g : Field) → (None_in o f → None_in o g) → arrow_in o arrow parameter a g ≡ true → arrow_in o arrow parameter a f ≡ true
arrow-less o arrow parameter a f g h e = slot-less (is_field_value a || (leads_to_value a && parameter)) (keeps_this a) (same_type a.kind ArrowFunctionExpression) arrow (holds_field (is_wrapped_for o) f) (holds_field (is_wrapped_for o) g) h e

module _ (o : EnvOptions) (arrow parameter reaches : Bool) (e : arrow ≡ true) (d : parameter ≡ false) where
  body-outside : (p : Pending) (t : Tree) → IsPlain p → ArrowsFit o arrow parameter reaches t → ArrowsFit o arrow parameter reaches (written_body p t)
  body-outside p t plain f = subst (λ (q : Bool). ArrowsFit o arrow q reaches (written_body p t)) (sym d) (body-fit o arrow reaches p t plain (subst (λ (q : Bool). ArrowsFit o arrow q reaches t) d f))

  pub body-within : (p : Pending) (t : Tree) → IsPlain p → ArrowsFit o arrow parameter reaches (written_body p t) → ArrowsFit o arrow parameter reaches t
  body-within p t plain f = subst (λ (q : Bool). ArrowsFit o arrow q reaches t) (sym d) (fit-body o arrow reaches p t plain (subst (λ (q : Bool). ArrowsFit o arrow q reaches (written_body p t)) d f))

not-both : (b : Bool) (A : Type 0) → b ≡ true → b ≡ false → A
not-both b A e d = absurd (cc (e, d))

-- WHERE A NAME IS DECLARED nothing belongs to an arrow

abbrev leads_to_body : List Ancestor → Bool
leads_to_body [] = false
leads_to_body (a ∷ up) = is_function a.kind && a.index == 2

-- of what stands at this site
record Apart (n : Site) (arrow : Bool) : Type 0 where
  function : leads_to_body n.above ≡ true → arrow ≡ false
  target : is_target n.above ≡ true → arrow ≡ false
  program : is_program_list n.above ≡ true → arrow ≡ false

-- of a node of this kind that stands there
pub record Bodied (n : Site) (k : AstType) (arrow : Bool) : Type 0 where
  pub function : same_type k FunctionBody ≡ true → stands_in ArrowFunctionExpression 1 n.above ≡ false → arrow ≡ false
  pub program : same_type k Program ≡ true → arrow ≡ false

apart-in : (o : EnvOptions) (n : Site) (arrow parameter : Bool) (k : AstType) → Bodied n k arrow → (l : Label) (fs : OpenFields) (i : ℕ) (f : Field) → Apart (site_in n k l fs i) (arrow_in o arrow parameter (ancestor k l done i 0) f)
apart-in o n arrow parameter FunctionDeclaration b l fs i f = record { function = λ e. refl; target = λ e. refl; program = λ e. refl }
apart-in o n arrow parameter FunctionExpression b l fs i f = record { function = λ e. refl; target = λ e. refl; program = λ e. refl }
apart-in o n arrow parameter StaticBlock b l fs i f = record { function = λ e. refl; target = λ e. refl; program = λ e. refl }
apart-in o n arrow parameter Program b l fs i f = record { function = λ e. absurd (cc e); target = λ e. absurd (cc e); program = λ e. b.program refl }
apart-in o n arrow parameter FunctionBody b l fs i f = record { function = λ e. absurd (cc e); target = λ e. b.function refl (no-arrow (i == 1) (stands_in ArrowFunctionExpression 1 n.above) e); program = λ e. absurd (cc e) }
  where
    no-arrow : (a b : Bool) → (a && not b) ≡ true → b ≡ false
    no-arrow true true e = absurd (cc e)
    no-arrow true false e = refl
    no-arrow false b e = absurd (cc e)
apart-in o n arrow parameter _ b l fs i f = record { function = λ e. absurd (cc e); target = λ e. absurd (cc e); program = λ e. absurd (cc e) }

-- what may stand at this site
record Placed (n : Site) (k : AstType) : Type 0 where
  body : same_type k FunctionBody ≡ true → (leads_to_body n.above || stands_in ArrowFunctionExpression 1 n.above) ≡ true
  no_program : same_type k Program ≡ false

abbrev PlacedAll : Site → Trees → Type 0
PlacedAll n empty = Unit {0}
PlacedAll n (t before ts) = Placed n (kind_of t) × PlacedAll n ts

abbrev PlacedBy : Site → Field → Type 0
PlacedBy n missing = Unit {0}
PlacedBy n (one t) = Placed n (kind_of t)
PlacedBy n (many ts) = PlacedAll n ts
PlacedBy n (statements ts) = PlacedAll n ts

abbrev PlacedIn : (ℕ → Site) → Fields → Type 0
PlacedIn c done = Unit {0}
PlacedIn c (f then fs) = PlacedBy (c zero) f × PlacedIn (λ i. c (suc i)) fs

abbrev IsBodySite : Site → AstType → ℕ → Type 0
IsBodySite n k i = is_body_place k i ≡ true → (leads_to_body n.above || stands_in ArrowFunctionExpression 1 n.above) ≡ true

placed-node : (n : Site) (k : AstType) (i : ℕ) (last : Bool) (t : Tree) → IsBodySite n k i → Edges nested k i last t → Placed n (kind_of t)
placed-node n k i last (node j l fs) site h =
    let outer = and_parts ((not (same_type j FunctionBody) || is_body_place k i) && not (same_type j Program)) _ h.0 in
    let inner = and_parts (not (same_type j FunctionBody) || is_body_place k i) (not (same_type j Program)) outer.0 in
    record { body = λ e. site (asked (same_type j FunctionBody) (is_body_place k i) inner.0 e); no_program = denied (same_type j Program) inner.1 }
  where
    asked : (a b : Bool) → (not a || b) ≡ true → a ≡ true → b ≡ true
    asked true b h e = h
    asked false b h e = absurd (cc e)

    denied : (a : Bool) → not a ≡ true → a ≡ false
    denied true e = absurd (cc e)
    denied false e = refl

placed-all : (n : Site) (k : AstType) (i : ℕ) (ts : Trees) → IsBodySite n k i → EdgesAll nested k i ts → PlacedAll n ts
placed-all n k i empty site h = tt
placed-all n k i (t before ts) site h = (placed-node n k i false t site h.0, placed-all n k i ts site h.1)

placed-by : (n : Site) (k : AstType) (i : ℕ) (last : Bool) (f : Field) → IsBodySite n k i → EdgesBy nested k i last f → PlacedBy n f
placed-by n k i last missing site h = tt
placed-by n k i last (one t) site h = placed-node n k i last t site h
placed-by n k i last (many ts) site h = placed-all n k i ts site h
placed-by n k i last (statements ts) site h = placed-all n k i ts site h

placed-in : (c : ℕ → Site) (k : AstType) (i : ℕ) (fs : Fields) → ((j m : ℕ) → m ≡ i + j → IsBodySite (c j) k m) → EdgesIn nested k i fs → PlacedIn c fs
placed-in c k i done sites h = tt
placed-in c k i (f then fs) sites h = (placed-by (c zero) k i (is_last fs) f (sites 0 i (omega arith)) h.0, placed-in (λ j. c (suc j)) k (suc i) fs (λ j m e. sites (suc j) m (omega (arith, e))) h.1)

first-site : (n : Site) (k : AstType) (l : Label) (fs : OpenFields) (j m : ℕ) → m ≡ 0 + j → IsBodySite (site_in n k l fs j) k m
first-site n k l fs j m e = subst (λ (i : ℕ). IsBodySite (site_in n k l fs j) k i) (let d : j ≡ m = omega (arith, e) in d) (λ h. h)

joined-placed : (n : Site) (bs ts : Trees) → PlacedAll n (joined_trees bs ts) → PlacedAll n ts
joined-placed n empty ts h = h
joined-placed n (b before bs) ts h = joined-placed n bs ts h.1

rest-placed : (n : Site) (bs ts : Trees) → PlacedAll n (after_imports bs ts) → PlacedAll n ts
rest-placed n bs empty h = tt
rest-placed n bs (t before ts) h = at (is_import t) (λ k. rest-placed n bs ts k) h
  where
    at : (v : Bool) → (PlacedAll n (after_imports bs ts) → PlacedAll n ts) → PlacedAll n (if v then t before after_imports bs ts else joined_trees bs (t before ts)) → PlacedAll n (t before ts)
    at true r k = (k.0, r k.1)
    at false r k = joined-placed n bs (t before ts) k

bodied-of : (n : Site) (k : AstType) (arrow : Bool) → Apart n arrow → Placed n k → Bodied n k arrow
bodied-of n k arrow a p = record {
  function = λ e d. a.function (or-second (leads_to_body n.above) (stands_in ArrowFunctionExpression 1 n.above) (p.body e) d);
  program = λ e. not-both (same_type k Program) (arrow ≡ false) e p.no_program;
}

expression-bodied : (n : Site) (k : AstType) (arrow : Bool) → is_var_scope k ≡ false → Bodied n k arrow
expression-bodied n FunctionBody arrow e = absurd (cc e)
expression-bodied n Program arrow e = absurd (cc e)
expression-bodied n _ arrow e = record { function = λ d. absurd (cc d); program = λ d. absurd (cc d) }

-- FIELDS of nodes that look into them

open-field : (k : AstType) (l : Label) (fs : Fields) (i : ℕ) (up : List Ancestor) → (is_seen k || same_type k AssignmentExpression) ≡ true → (is_body k i ≡ false) × (is_slot (ancestor k l fs i 0 ∷ up) ≡ false)
open-field AssignmentExpression l fs i up e = (refl, refl)
open-field BigIntLiteral l fs i up e = (refl, refl)
open-field MemberExpression l fs i up e = (refl, refl)
open-field ObjectTarget l fs i up e = (refl, refl)
open-field ParenthesizedExpression l fs i up e = (refl, refl)
open-field PrivateIdentifier l fs i up e = (refl, refl)
open-field RestElement l fs i up e = (refl, refl)
open-field TargetRest l fs i up e = (refl, refl)
open-field _ l fs i up e = absurd (cc e)

first-alike : (bodies : ℕ → Bool) (c : ℕ → Site) (f g : Field) (fs : Fields) → (bodies zero ≡ false → is_slot (c zero).above ≡ false → SeenAlike f g) → (i : ℕ) → bodies i ≡ false → is_slot (c i).above ≡ false → SeenAlike (field_at i (f then fs)) (field_at i (g then fs))
first-alike bodies c f g fs h zero b d = h b d
first-alike bodies c f g fs h (suc i) b d = seen-same (field_at i fs)

later-alike : (bodies : ℕ → Bool) (c : ℕ → Site) (f : Field) (fs gs : Fields) → ((i : ℕ) → bodies (suc i) ≡ false → is_slot (c (suc i)).above ≡ false → SeenAlike (field_at i fs) (field_at i gs)) → (i : ℕ) → bodies i ≡ false → is_slot (c i).above ≡ false → SeenAlike (field_at i (f then fs)) (field_at i (f then gs))
later-alike bodies c f fs gs h zero b d = seen-same f
later-alike bodies c f fs gs h (suc i) b d = h i b d

not-so : (b : Bool) → (b ≡ true → ⊥) → b ≡ false
not-so true h = absurd (h refl)
not-so false h = refl

or-less : (c a b r : Bool) → (a ≡ false → b ≡ false) → ((not c && a) || r) ≡ false → ((not c && b) || r) ≡ false
or-less true a b r h e = e
or-less false true b r h e = absurd (cc e)
or-less false false b r h e = or_from b r (h refl) e

later-less : (x r q : Bool) → (r ≡ false → q ≡ false) → (x || r) ≡ false → (x || q) ≡ false
later-less true r q h e = absurd (cc e)
later-less false r q h e = h e

-- STEPS

module _ (o : EnvOptions) (R : Site → Ledger → Spot → Ledger → Spot → Type 0) (form : WideLawful R) (law : FitLawful o R) where
  mutual
    pub fits-after : {n : Site} {s s' : Ledger} {t u : Open} → Step R n s t s' u → HasText (this_in s) → (a : Sort) (arrow parameter reaches : Bool) → (is_slot n.above ≡ true → a ≡ s-Expression) → Marked o n (holds (is_wrapped_for o) (finished t)) arrow parameter → Bodied n (kind_of (finished t)) arrow → IsWide t → has_form a (finished t) ≡ true → ArrowsFit o arrow parameter reaches (finished t) → TreeFit o n arrow parameter reaches s s' (finished t) (finished u)
    fits-after (acts {n = n} {s = s} {s' = s'} t u h) named a arrow parameter reaches slot marks bodied wide f g =
        let formed = subst (λ (x : Tree). has_form a x ≡ true) (finished-opened t) f in
        let marked = subst (λ (x : Tree). Marked o n (holds (is_wrapped_for o) x) arrow parameter) (finished-opened t) marks in
        let r = law.at_nodes n s s' t u a arrow parameter reaches marked h formed (subst (λ (x : Tree). ArrowsFit o arrow parameter reaches x) (finished-opened t) g) in
        subst (λ (x : Tree). TreeFit o n arrow parameter reaches s s' x (finished (opened u))) (sym (finished-opened t)) (subst (λ (y : Tree). TreeFit o n arrow parameter reaches s s' t y) (sym (finished-opened u))
        (record { fits = r.fits; seen = r.seen; alike = r.alike; none = r.none; names = (form.at_nodes n s s' t u a slot h formed named).names }))
    fits-after (inside {n = n} {s = s} {s' = s'} {k = k} {l = l} {fs = fs} {gs = gs} h) named a arrow parameter reaches slot marks bodied wide f g =
        let old = finished_fields fs in
        let new = finished_fields gs in
        let placed = placed-in (site_in n k l fs) k 0 old (first-site n k l fs) (edges-nested a k l old f) in
        let r = fields-fit h named k (is_body k) (closes k) (λ i f. arrow_in o arrow parameter (ancestor k l done i 0) f) (λ i. parameter_in parameter (ancestor k l done i 0)) (λ i. reaches_in reaches (ancestor k l done i 0)) (λ i f g less e. arrow-less o arrow parameter (ancestor k l done i 0) f g less e) (marked-in o n _ arrow parameter marks k l fs) (apart-in o n arrow parameter k bodied l fs) (body-states o arrow parameter k l) wide (node-have n a k l fs f) placed g.1 in
        let own = wrapped-alike o k l old new (λ e i. let seen = open-field k l (outline fs) i n.above (ap (λ j. is_seen j || same_type j AssignmentExpression) e) in r.alike i seen.0 seen.1) in
        record {
          fits = (own-kept reaches k l old new arrow r.this r.second_kind g.0, r.fits);
          seen = record { this = this-kept k l old new r.this; arrow = λ e. e };
          alike = λ d. seen-inside k l old new (λ e i. let seen = open-field k l (outline fs) i n.above (ap (λ b. b || same_type k AssignmentExpression) e) in r.alike i seen.0 seen.1);
          none = λ e. or_from (is_wrapped_for o k l new) (holds_fields (is_wrapped_for o) (closes k) new) (own ∙ first-of (is_wrapped_for o k l old) _ e) (r.none (second-of (is_wrapped_for o k l old) _ e));
          names = r.names;
        }

    fields-fit : {c : ℕ → Site} {s s' : Ledger} {fs gs : OpenFields} → FieldsStep R c s fs s' gs → HasText (this_in s) → (k : AstType) (bodies closed : ℕ → Bool) (arrows : ℕ → Field → Bool) (parameters reaches : ℕ → Bool) → ((i : ℕ) (f g : Field) → (None_in o f → None_in o g) → arrows i g ≡ true → arrows i f ≡ true) → ((i : ℕ) (f : Field) → Marked o (c i) (holds_field (is_wrapped_for o) f) (arrows i f) (parameters i)) → ((i : ℕ) (f : Field) → Apart (c i) (arrows i f)) →
        ((i : ℕ) → bodies i ≡ true → (f : Field) → (arrows i f ≡ true) × (parameters i ≡ false)) → AreWideFields bodies fs → FieldsHave k c bodies (finished_fields fs) → PlacedIn c (finished_fields fs) → ArrowsFitIn o arrows parameters reaches (finished_fields fs) → FieldsFit o c closed arrows parameters reaches bodies s s' (finished_fields fs) (finished_fields gs)
    fields-fit (in_first {c = c} {f = x} {g = y} {fs = fs} h) named k bodies closed arrows parameters reaches less marks apart states wide has placed g =
        let f = finished_field x in
        let f' = finished_field y in
        let r = field-fit h named k (bodies zero) (arrows zero f) (parameters zero) (reaches zero) (marks zero f) (apart zero f) (λ e. states zero e f) wide.0 has.0 placed.0 g.0 in
        record {
          fits = (lower-by o (arrows zero f) (arrows zero f') (parameters zero) (reaches zero) (less zero f f' r.none) f' r.fits, g.1);
          alike = first-alike bodies c f f' (finished_fields fs) r.alike;
          none = or-less (closed zero) (holds_field (is_wrapped_for o) f) (holds_field (is_wrapped_for o) f') _ r.none;
          this = r.this;
          first_kind = r.arrow_kind;
          second_kind = λ e d. d;
          names = r.names;
        }
    fields-fit (in_later {c = c} {f = x} {fs = fs} {gs = gs} h) named k bodies closed arrows parameters reaches less marks apart states wide has placed g =
        let r = fields-fit h named k (λ i. bodies (suc i)) (λ i. closed (suc i)) (λ i. arrows (suc i)) (λ i. parameters (suc i)) (λ i. reaches (suc i)) (λ i. less (suc i)) (λ i. marks (suc i)) (λ i. apart (suc i)) (λ i. states (suc i)) wide.1 has.1 placed.1 g.1 in
        record {
          fits = (g.0, r.fits);
          alike = later-alike bodies c (finished_field x) (finished_fields fs) (finished_fields gs) r.alike;
          none = later-less (not (closed zero) && holds_field (is_wrapped_for o) (finished_field x)) _ _ r.none;
          this = λ e d. d;
          first_kind = λ e d. d;
          second_kind = r.first_kind;
          names = r.names;
        }

    field-fit : {n : Site} {s s' : Ledger} {f g : OpenField} → FieldStep R n s f s' g → HasText (this_in s) → (k : AstType) (b arrow parameter reaches : Bool) → Marked o n (holds_field (is_wrapped_for o) (finished_field f)) arrow parameter → Apart n arrow → (b ≡ true → (arrow ≡ true) × (parameter ≡ false)) → IsWideField b f → FieldHas k n b (finished_field f) → PlacedBy n (finished_field f) → ArrowsFitBy o arrow parameter reaches (finished_field f) → FieldFit o n arrow parameter reaches b s s' (finished_field f) (finished_field g)
    field-fit (in_child {n = n} {t = t} h) named k b arrow parameter reaches marks apart states wide has placed g =
        let r = fits-after h named has.sort arrow parameter reaches has.slot marks (bodied-of n (kind_of (finished t)) arrow apart placed) wide has.formed g in
        record { fits = r.fits; alike = λ e d. r.alike d; none = r.none; this = λ e. r.seen.this; arrow_kind = λ e. r.seen.arrow; names = r.names }
    field-fit (in_children {ts = ts} {us = us} h) named k b arrow parameter reaches marks apart states wide has placed g =
        let r = trees-fit h named _ arrow parameter reaches has.no_slot marks apart wide has.trees placed g in
        record { fits = r.fits; alike = λ e d. seen-many (finished_trees ts) (finished_trees us) r.rests; none = r.none; this = λ e d. d; arrow_kind = λ e d. d; names = r.names }
    field-fit (in_body {n = n} {o = op} {p = p} {q = q} {t = t} {u = u} e y y' h) named k b arrow parameter reaches marks apart states wide has placed g =
        let sort = has.arrow wide.0 in
        let state = states wide.0 in
        let bare = formed-inside p (finished t) wide.1 (subst (λ (z : Sort). has_form z (written_body p (finished t)) ≡ true) sort has.formed) in
        let r = fits-after h named s-ArrowFunctionBody arrow parameter reaches (λ d. sym sort ∙ has.slot d) (record { parameter_is = marks.parameter_is; in_slot = λ d w. state.0; belongs = marks.belongs }) (expression-bodied _ (kind_of (finished t)) arrow y.no_body) wide.2 bare (body-within o arrow parameter reaches state.0 state.1 p (finished t) wide.1 g) in
        let plain = plain-more p q r.names.names wide.1 r.names.texts r.names.pending in
        record {
          fits = body-outside o arrow parameter reaches state.0 state.1 q (finished u) plain r.fits;
          alike = λ d. not-both b _ wide.0 d;
          none = λ d. body-none o q (finished u) plain (r.none (none-body o p (finished t) wide.1 d));
          this = λ d. not-both b _ wide.0 d;
          arrow_kind = λ d. not-both b _ wide.0 d;
          names = record { names = []; texts = tt; pending = no-names op; this = r.names.this; top = r.names.top };
        }
    field-fit (in_list {n = n} {o = op} {p = p} {q = q} {y = y} {b = d} {ts = ts} {us = us} e e' h) named k b arrow parameter reaches marks apart states wide has placed g =
        let old = pending_statements p y d in
        let r = trees-fit h named _ arrow parameter reaches has.no_slot marks apart wide.1 (rest-have old (finished_trees ts) has.trees) (rest-placed n old (finished_trees ts) placed) (fit-after o arrow parameter reaches old (finished_trees ts) g) in
        let listed = listed-more p q y y d d r.names.names wide.0 r.names.texts r.names.pending (λ h. h) refl in
        record {
          fits = whole-fit o arrow reaches parameter q y d (finished_trees us) listed (whole-named o arrow reaches parameter p y d (finished_trees ts) wide.0 g) r.fits;
          alike = λ e d. seen-statements _ _;
          none = λ w. whole-none o q y d (finished_trees us) listed (r.none (none-after o old (finished_trees ts) w));
          this = λ e d. d;
          arrow_kind = λ e d. d;
          names = record { names = []; texts = tt; pending = no-names op; this = r.names.this; top = r.names.top };
        }
    field-fit (in_target {n = n} {o = op} {p = p} {q = q} {y = y} {y' = y'} {b = d} {ts = ts} {us = us} e h) named k b arrow parameter reaches marks apart states wide has placed g =
        let old = pending_statements p y d in
        let r = trees-fit h wide.0.this _ arrow parameter reaches has.no_slot marks apart wide.1 (rest-have old (finished_trees ts) has.trees) (rest-placed n old (finished_trees ts) placed) (fit-after o arrow parameter reaches old (finished_trees ts) g) in
        let listed = listed-more p q y y' d d r.names.names wide.0 r.names.texts r.names.pending r.names.this refl in
        record {
          fits = whole-fit o arrow reaches parameter q y' d (finished_trees us) listed (outside-names arrow reaches y' (apart.target e)) r.fits;
          alike = λ e d. seen-statements _ _;
          none = λ w. whole-none o q y' d (finished_trees us) listed (r.none (none-after o old (finished_trees ts) w));
          this = λ e d. d;
          arrow_kind = λ e d. d;
          names = record { names = []; texts = tt; pending = no-names op; this = λ h. h; top = r.names.top };
        }
    field-fit (in_program {n = n} {o = op} {p = p} {q = q} {y = y} {y' = y'} {b = d} {b' = d'} {ts = ts} {us = us} e h) named k b arrow parameter reaches marks apart states wide has placed g =
        let old = pending_statements p y d in
        let r = trees-fit h wide.0.this _ arrow parameter reaches has.no_slot marks apart wide.1 (rest-have old (finished_trees ts) has.trees) (rest-placed n old (finished_trees ts) placed) (fit-after o arrow parameter reaches old (finished_trees ts) g) in
        let listed = listed-more p q y y' d d' r.names.names wide.0 r.names.texts r.names.pending r.names.this r.names.top in
        record {
          fits = whole-fit o arrow reaches parameter q y' d' (finished_trees us) listed (outside-names arrow reaches y' (apart.program e)) r.fits;
          alike = λ e d. seen-statements _ _;
          none = λ w. whole-none o q y' d' (finished_trees us) listed (r.none (none-after o old (finished_trees ts) w));
          this = λ e d. d;
          arrow_kind = λ e d. d;
          names = record { names = []; texts = tt; pending = no-names op; this = λ h. h; top = refl };
        }
    field-fit (acts_on_list {n = n} {s = s} {s' = s'} {p = p} {q = q} {x = x} {y = y} {a = a} {b = d} ts us h) named k b arrow parameter reaches marks apart states wide has placed g =
        let found = form.at_lists n s s' p q x y a d ts us h wide.0 in
        let same = ap (λ vs. whole_list p x a vs) (finished-trees ts) ∙ found.trees ∙ sym (ap (λ vs. whole_list q y d vs) (finished-trees us)) in
        record { fits = subst (λ (vs : Trees). ArrowsFitAll o arrow parameter reaches vs) same g; alike = λ e d. seen-statements _ _; none = λ w. subst (λ (vs : Trees). None_among o vs) same w; this = λ e d. d; arrow_kind = λ e d. d; names = nothing-new s s' found.ledger }
    field-fit (acts_on_body {n = n} {s = s} {s' = s'} {p = p} t u h) named k b arrow parameter reaches marks apart states wide has placed g =
        let found = form.at_bodies n s s' p t u h in
        let same = ap (λ x. written_body p x) (finished-opened t) ∙ found.1 ∙ sym (finished-opened u) in
        record { fits = subst (λ (x : Tree). ArrowsFit o arrow parameter reaches x) same g; alike = λ d. not-both b _ wide.0 d; none = λ w. subst (λ (x : Tree). None_of o x) same w; this = λ d. not-both b _ wide.0 d; arrow_kind = λ d. not-both b _ wide.0 d; names = nothing-new s s' found.0 }

    trees-fit : {n : Site} {s s' : Ledger} {ts us : OpenTrees} → TreesStep R n s ts s' us → HasText (this_in s) → (held arrow parameter reaches : Bool) → (is_slot n.above ≡ true → ⊥) → Marked o n held arrow parameter → Apart n arrow → AreWideTrees ts → TreesHave (finished_trees ts) → PlacedAll n (finished_trees ts) → ArrowsFitAll o arrow parameter reaches (finished_trees ts) → TreesFit o arrow parameter reaches s s' (finished_trees ts) (finished_trees us)
    trees-fit (in_head {n = n} {t = t} {u = u} {ts = ts} h) named held arrow parameter reaches slot marks apart wide has placed g =
        let r = fits-after h named has.0.sort arrow parameter reaches (λ e. absurd (slot e)) (record { parameter_is = marks.parameter_is; in_slot = λ e w. absurd (slot e); belongs = marks.belongs }) (bodied-of n (kind_of (finished t)) arrow apart placed.0) wide.0 has.0.formed g.0 in
        let same = r.alike (not-so (is_slot n.above) slot) in
        record {
          fits = (r.fits, g.1);
          rests = ap (λ b. b || any_kind is_rest (finished_trees ts)) same.rest;
          none = λ w. or_from (holds (is_wrapped_for o) (finished u)) _ (r.none (first-of (holds (is_wrapped_for o) (finished t)) _ w)) (second-of (holds (is_wrapped_for o) (finished t)) _ w);
          names = r.names;
        }
    trees-fit (in_tail {t = t} h) named held arrow parameter reaches slot marks apart wide has placed g =
        let r = trees-fit h named held arrow parameter reaches slot marks apart wide.1 has.1 placed.1 g.1 in
        record { fits = (g.0, r.fits); rests = ap (λ b. is_rest (kind_of (finished t)) || b) r.rests; none = later-less (holds (is_wrapped_for o) (finished t)) _ _ r.none; names = r.names }
    trees-fit (in_flanked h) named held arrow parameter reaches slot marks apart wide has placed g = absurd wide
    trees-fit (after_flanked h) named held arrow parameter reaches slot marks apart wide has placed g = absurd wide
    trees-fit (flanks {n = n} {s = s} {s' = s'} {bs = bs} {cs = cs} t u h) named held arrow parameter reaches slot marks apart wide has placed g = absurd (form.no_flanks n s s' t u bs cs h)
    trees-fit (acts_on_flanked t us h) named held arrow parameter reaches slot marks apart wide has placed g = absurd wide
