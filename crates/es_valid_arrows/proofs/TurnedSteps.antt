-- Steps of rules, those of arrows among them, keep the static rules of places where each arrow can become a function.
use Rattle.std.proofs.Common.{◌≡◌, ◌+◌, ◌==◌, ℕ, zero, suc, inl, inr, refl, sym, ap, subst, ◌∙◌, List, [], ◌∷◌}
use Rattle.std.specs.Prelude.{◌⊎◌, ◌&&◌, ◌||◌, not, Bool, true, false, Some, bytes_eq, codes}
use Rattle.std.proofs.lemmas.Bool.{and_from}
use Rattle.es_tree.specs.Ancestors.{Ancestor, ancestor, stands_in}
use Rattle.es_tree.specs.Children.{child_at, only_child}
use Rattle.es_tree.specs.CoreStaticRules.{is_bad_delete, is_kept, is_kept_within}
use Rattle.es_tree.specs.Constructs.{field_at}
use Rattle.es_tree.specs.HasForm.{has_form, same_type}
use Rattle.es_tree.specs.Names.{first_text}
use Rattle.es_tree.specs.Parens.{without_parens}
use Rattle.es_tree.specs.Tree.{Tree, node, Label, Fields, done, Field, one, Trees, empty, ◌before◌}
use Rattle.es_tree.specs.declared.ast_type.AstType.{AstType}
use Rattle.es_tree.specs.declared.ast_type.AstType.TheVariants.{ArrowFunctionExpression, BlockStatement, FunctionBody, LabeledStatement, ParenthesizedExpression, Program, StaticBlock, SwitchCase, ThisExpression, UnaryExpression}
use Rattle.es_tree.specs.declared.options.EnvOptions.{EnvOptions}
use Rattle.es_tree.specs.declared.table.Sort.{Sort}
use Rattle.es_tree.specs.declared.table.Sort.TheVariants.{ArrowFunctionBody as s-ArrowFunctionBody, Expression as s-Expression}
use Rattle.es_runs.proofs.Named.{or_first, or_second}
use Rattle.es_semantic.proofs.FormEdges.{Edges, EdgesAll, EdgesBy, EdgesIn, is_last}
use Rattle.es_steps.specs.Open.{pending_statements, whole_list, written_body, is_body, Open, open_node, OpenFields, OpenField, OpenTrees, opened, finished, finished_fields, finished_field, finished_trees}
use Rattle.es_steps.specs.Slots.{holds, holds_field, is_slot}
use Rattle.es_steps.specs.Steps.{Ledger, Site, Spot, outline, Step, FieldsStep, FieldStep, TreesStep}
use Rattle.es_steps.specs.Steps.Step.{acts, inside}
use Rattle.es_steps.specs.Steps.FieldsStep.{in_first, in_later}
use Rattle.es_steps.specs.Steps.FieldStep.{in_child, in_body, in_children, in_list, in_target, in_program, acts_on_body, acts_on_list}
use Rattle.es_steps.specs.Steps.TreesStep.{in_head, in_tail, in_flanked, after_flanked, flanks, acts_on_flanked}
use Rattle.es_steps.specs.WrapRule.{is_wrapped_for}
use Rattle.es_steps.proofs.FormLists.{HasText, body-inside as formed-inside}
use Rattle.es_steps.proofs.FormRules.{no-names}
use Rattle.es_steps.proofs.FormSteps.{plain-more}
use Rattle.es_steps.proofs.Opened.{finished-opened, finished-trees}
use Rattle.es_steps.proofs.Taken.{this_in}
use Rattle.es_arrow_steps.specs.ThisFits.{reaches_in}
use Rattle.es_valid_steps.specs.ArrowNodes.{is_arrow_accessor, is_this_within}
use Rattle.es_valid_steps.specs.PlaceRules.{Keeps, KeepsAll, KeepsBy, KeepsIn}
use Rattle.es_valid_steps.proofs.Changed.{Changed, ChangedField, ChangedFields, ChangedTrees, is_hidden, kept-inside, same-fields, same-trees, this-inside}
use Rattle.es_valid_steps.proofs.Changed.Changed.{stays, inside as inside_changed}
use Rattle.es_valid_steps.proofs.Changed.ChangedField.{same_field, unseen, child_changed, children_changed, list_changed}
use Rattle.es_valid_steps.proofs.Changed.ChangedFields.{more}
use Rattle.es_valid_steps.proofs.Changed.ChangedTrees.{some}
use Rattle.es_valid_steps.proofs.Edges.{edges, is-label, stands}
use Rattle.es_valid_steps.proofs.FieldForms.{ArrowAt, FieldHas, FieldsHave, TreesHave, arrow-first, arrow-next, arrow-zero, node-have, rest-have}
use Rattle.es_valid_steps.proofs.KeptNodes.{Spared, node-kept}
use Rattle.es_valid_steps.proofs.Moves.{is_jump}
use Rattle.es_valid_steps.proofs.Pending.{after-rest, is_list_kind, whole-keeps as wide-keeps}
use Rattle.es_valid_steps.proofs.PlaceSteps.{body-outside, body-within, either, slot-hidden}
use Rattle.es_valid_steps.proofs.Slots.{SlotHead, is_slot_kind, slot-kind}
use Rattle.es_valid_steps.proofs.Slots.SlotHead.{slot_head}
use Rattle.es_valid_arrows.specs.ArrowPlaces.{arrow_in, is_outer, parameter_in}
use Rattle.es_valid_arrows.proofs.Fits.{ArrowsFit, ArrowsFitAll, ArrowsFitBy, ArrowsFitIn}
use Rattle.es_valid_arrows.proofs.FitRules.{FitLawful, Marked}
use Rattle.es_valid_arrows.proofs.FitSteps.{body-states, body-within as fit-within, marked-in}
use Rattle.es_valid_arrows.proofs.FitTrees.{fit-after}
use Rattle.es_valid_arrows.proofs.TurnedRules.{TurnedLawful, Unlabeled}
use Rattle.es_valid_arrows.proofs.Wide.{AreWideFields, AreWideTrees, IsWide, IsWideField, WideLawful, WideNames, listed-more, nothing-new}

-- WHAT A STEP LEAVES: nodes that keep the rules, and that look to those around them as before; `this` in parentheses becomes a name in
-- arrows alone

abbrev SameOperand : Bool → Tree → Tree → Type 0
SameOperand arrow t u = is_this_within (Some t) ≡ true → (is_kept (without_parens u) ≡ is_kept (without_parens t)) ⊎ (arrow ≡ true)

pub record TreeKept (n : Site) (up : List Ancestor) (arrow : Bool) (s s' : Ledger) (t u : Open) : Type 0 where
  pub keeps : Keeps up (finished u)
  seen : Changed true (finished t) (finished u) ⊎ (is_slot n.above ≡ true)
  operand : SameOperand arrow (finished t) (finished u)
  names : WideNames s s'

pub record FieldsKept (k : AstType) (l : Label) (up : List Ancestor) (all : Fields) (i : ℕ) (arrow : Bool) (s s' : Ledger) (fs gs : OpenFields) : Type 0 where
  pub keeps : KeepsIn up k l all i (finished_fields gs)
  pub seen : ChangedFields true k (finished_fields fs) (finished_fields gs)
  pub operand : is_this_within (child_at 0 (finished_fields fs)) ≡ true → (is_kept_within (child_at 0 (finished_fields gs)) ≡ is_kept_within (child_at 0 (finished_fields fs))) ⊎ (arrow ≡ true)
  pub names : WideNames s s'

record FieldKept (k : AstType) (up : List Ancestor) (arrow : Bool) (s s' : Ledger) (f g : OpenField) : Type 0 where
  keeps : KeepsBy up (finished_field g)
  seen : ChangedField true k (finished_field f) (finished_field g)
  operand : is_this_within (only_child (finished_field f)) ≡ true → (is_kept_within (only_child (finished_field g)) ≡ is_kept_within (only_child (finished_field f))) ⊎ (arrow ≡ true)
  names : WideNames s s'

record TreesKept (up : List Ancestor) (s s' : Ledger) (ts us : OpenTrees) : Type 0 where
  keeps : KeepsAll up (finished_trees us)
  seen : ChangedTrees true (finished_trees ts) (finished_trees us)
  names : WideNames s s'

-- LABELS: no `this` is one

abbrev AllUnlabeled : List Ancestor → Trees → Type 0
AllUnlabeled up empty = Unit {0}
AllUnlabeled up (t before ts) = Unlabeled up t × AllUnlabeled up ts

left-false : (b : Bool) → (not b || false) ≡ true → b ≡ false
left-false true h = absurd (cc h)
left-false false h = refl

and-left-false : (j l c : Bool) → (l ≡ true → j ≡ true) → (j && c) ≡ false → (l && c) ≡ false
and-left-false true true c h e = e
and-left-false true false c h e = refl
and-left-false false false c h e = refl
and-left-false false true c h e = absurd (let d = h refl in cc d)

labeled-jump : (k : AstType) → same_type k LabeledStatement ≡ true → is_jump k ≡ true
labeled-jump LabeledStatement e = refl
labeled-jump _ e = absurd (cc e)

edge-unlabeled : (k : AstType) (l : Label) (all : Fields) (i : ℕ) (up : List Ancestor) (last : Bool) (t : Tree) → Edges stands k i last t → Unlabeled (ancestor k l all i 0 ∷ up) t
edge-unlabeled k l all i up last (node ThisExpression m fs) h e = and-left-false (is_jump k) (same_type k LabeledStatement) (i == 0) (labeled-jump k) (left-false (is_jump k && (i == 0)) (is-label k i last (node ThisExpression m fs) h))
edge-unlabeled k l all i up last (node j m fs) h e = absurd (cc e)

edges-unlabeled : (k : AstType) (l : Label) (all : Fields) (i : ℕ) (up : List Ancestor) (ts : Trees) → EdgesAll stands k i ts → AllUnlabeled (ancestor k l all i 0 ∷ up) ts
edges-unlabeled k l all i up empty h = tt
edges-unlabeled k l all i up (t before ts) h = (edge-unlabeled k l all i up false t h.0, edges-unlabeled k l all i up ts h.1)

all-unlabeled : (up : List Ancestor) (ts : Trees) → stands_in LabeledStatement 0 up ≡ false → AllUnlabeled up ts
all-unlabeled up empty e = tt
all-unlabeled up (t before ts) e = (λ d. e, all-unlabeled up ts e)

list-unlabeled : (k : AstType) (l : Label) (all : Fields) (i : ℕ) (up : List Ancestor) → is_list_kind k ≡ true → stands_in LabeledStatement 0 (ancestor k l all i 0 ∷ up) ≡ false
list-unlabeled BlockStatement l all i up e = refl
list-unlabeled FunctionBody l all i up e = refl
list-unlabeled Program l all i up e = refl
list-unlabeled StaticBlock l all i up e = refl
list-unlabeled SwitchCase l all i up e = refl
list-unlabeled _ l all i up e = absurd (cc e)

arrow-unlabeled : (k : AstType) (l : Label) (all : Fields) (i : ℕ) (up : List Ancestor) → k ≡ ArrowFunctionExpression → stands_in LabeledStatement 0 (ancestor k l all i 0 ∷ up) ≡ false
arrow-unlabeled k l all i up e = ap (λ j. same_type j LabeledStatement && (i == 0)) e

-- OPERANDS

node-operand : (o : EnvOptions) (arrow parameter : Bool) (f : Field) (k : AstType) (l : Label) (fs gs : Fields) → (is_this_within (child_at 0 fs) ≡ true → (is_kept_within (child_at 0 gs) ≡ is_kept_within (child_at 0 fs)) ⊎ (arrow_in o arrow parameter (ancestor k l done 0 0) f ≡ true)) → SameOperand arrow (node k l fs) (node k l gs)
node-operand o arrow parameter f ParenthesizedExpression l fs gs h e = at (h (sym (this-inside l fs) ∙ e))
  where
    at : (is_kept_within (child_at 0 gs) ≡ is_kept_within (child_at 0 fs)) ⊎ (arrow ≡ true) → (is_kept (without_parens (node ParenthesizedExpression l gs)) ≡ is_kept (without_parens (node ParenthesizedExpression l fs))) ⊎ (arrow ≡ true)
    at (inl d) = inl (kept-inside l gs ∙ d ∙ sym (kept-inside l fs))
    at (inr d) = inr d
node-operand o arrow parameter f ThisExpression l fs gs h e = inl refl
node-operand o arrow parameter f _ l fs gs h e = absurd (cc e)

-- where it becomes a name it's no operand of `delete`, for which the arrow asks
both-false : (a b : Bool) → a ≡ true → (a && b) ≡ false → b ≡ true → ⊥
both-false true true p e q = absurd (cc e)
both-false true false p e q = absurd (cc q)
both-false false b p e q = absurd (cc p)

operand-spared : (o : EnvOptions) (k : AstType) (l : Label) (fs gs : Fields) (arrow parameter reaches : Bool) (f : Field) → (is_outer reaches k l fs && arrow) ≡ false → (is_this_within (child_at 0 fs) ≡ true → (is_kept_within (child_at 0 gs) ≡ is_kept_within (child_at 0 fs)) ⊎ (arrow_in o arrow parameter (ancestor k l done 0 0) f ≡ true)) → is_bad_delete (node k l fs) ≡ false → is_this_within (child_at 0 fs) ≡ true → is_bad_delete (node k l gs) ≡ false
operand-spared o UnaryExpression l fs gs arrow parameter reaches f outer h e p = at (bytes_eq (first_text l.texts) (codes "delete")) refl
  where
    at : (b : Bool) → bytes_eq (first_text l.texts) (codes "delete") ≡ b → is_bad_delete (node UnaryExpression l gs) ≡ false
    at true q = either (is_bad_delete (node UnaryExpression l gs) ≡ false) (h p) (λ d. ap (λ b. bytes_eq (first_text l.texts) (codes "delete") && b) d ∙ e) (λ d. absurd (both-false (is_outer reaches UnaryExpression l fs) arrow (and_from _ _ q p) outer d))
    at false q = ap (λ b. b && is_kept_within (child_at 0 gs)) q
operand-spared o _ l fs gs arrow parameter reaches f outer h e p = refl

-- A NODE whose fields took a step

module _ (o : EnvOptions) (n : Site) (up : List Ancestor) (arrow parameter reaches : Bool) (s s' : Ledger) (k : AstType) (l : Label) (fs gs : OpenFields) where
  pub in-node : (a : Sort) → has_form a (node k l (finished_fields fs)) ≡ true → ArrowsFit o arrow parameter reaches (node k l (finished_fields fs)) → Keeps up (node k l (finished_fields fs)) → FieldsKept k l up (finished_fields fs) 0 (arrow_in o arrow parameter (ancestor k l done 0 0) (field_at 0 (finished_fields fs))) s s' fs gs → TreeKept n up arrow s s' (open_node k l fs) (open_node k l gs)
  in-node a f fit h r =
      let old = finished_fields fs in
      let new = finished_fields gs in
      let spared : Spared k l old new = record { accessor = or_second (is_outer reaches k l old && arrow) (is_arrow_accessor k l old) fit.0; operand = operand-spared o k l old new arrow parameter reaches (field_at 0 old) (or_first (is_outer reaches k l old && arrow) (is_arrow_accessor k l old) fit.0) r.operand h.0.deleted } in
      record {
        keeps = node-kept a up k l old new f (λ v. spared) r.seen h.0 r.keeps;
        seen = inl (inside_changed r.seen);
        operand = node-operand o arrow parameter (field_at 0 old) k l old new r.operand;
        names = r.names;
      }

-- STEPS

module _ (o : EnvOptions) (R : Site → Ledger → Spot → Ledger → Spot → Type 0) (form : WideLawful R) (fits : FitLawful o R) (law : TurnedLawful o R) where
  mutual
    pub kept-after : {n : Site} {s s' : Ledger} {t u : Open} → Step R n s t s' u → HasText (this_in s) → (a : Sort) (up : List Ancestor) (arrow parameter reaches : Bool) → (is_slot n.above ≡ true → a ≡ s-Expression) → (is_slot n.above ≡ true → SlotHead up) → Unlabeled up (finished t) → Marked o n (holds (is_wrapped_for o) (finished t)) arrow parameter → IsWide t → has_form a (finished t) ≡ true → ArrowsFit o arrow parameter reaches (finished t) → Keeps up (finished t) → TreeKept n up arrow s s' t u
    kept-after (acts {n = n} {s = s} {s' = s'} t u h) named a up arrow parameter reaches slot head label marks wide f fit g =
        let formed = subst (λ (x : Tree). has_form a x ≡ true) (finished-opened t) f in
        let fitting = subst (λ (x : Tree). ArrowsFit o arrow parameter reaches x) (finished-opened t) fit in
        let r = law.at_nodes n s s' t u a up arrow parameter reaches slot head (subst (λ (x : Tree). Unlabeled up x) (finished-opened t) label) h formed fitting (subst (λ (x : Tree). Keeps up x) (finished-opened t) g) in
        let marked = subst (λ (x : Tree). Marked o n (holds (is_wrapped_for o) x) arrow parameter) (finished-opened t) marks in
        let m = fits.at_nodes n s s' t u a arrow parameter reaches marked h formed fitting in
        record {
          keeps = subst (λ (x : Tree). Keeps up x) (sym (finished-opened u)) r.keeps;
          seen = subst (λ (x : Tree). Changed true x (finished (opened u)) ⊎ (is_slot n.above ≡ true)) (sym (finished-opened t)) (subst (λ (y : Tree). Changed true t y ⊎ (is_slot n.above ≡ true)) (sym (finished-opened u)) r.seen);
          operand = λ e. inr (m.named (subst (λ (x : Tree). is_this_within (Some x) ≡ true) (finished-opened t) e));
          names = (form.at_nodes n s s' t u a slot h formed named).names;
        }
    kept-after (inside {n = n} {s = s} {s' = s'} {k = k} {l = l} {fs = fs} {gs = gs} h) named a up arrow parameter reaches slot head label marks wide f fit g =
        in-node o n up arrow parameter reaches s s' k l fs gs a f fit g
        (fields-after h named k l (is_body k) (λ i f. arrow_in o arrow parameter (ancestor k l done i 0) f) (λ i. parameter_in parameter (ancestor k l done i 0)) (λ i. reaches_in reaches (ancestor k l done i 0)) up (finished_fields fs) 0 (λ j e. slot-kind n.above k l (outline fs) j e) (arrow-first k) (marked-in o n _ arrow parameter marks k l fs) (body-states o arrow parameter k l) wide (edges a k l (finished_fields fs) f) (node-have n a k l fs f) fit.1 g.1)

    fields-after : {c : ℕ → Site} {s s' : Ledger} {fs gs : OpenFields} → FieldsStep R c s fs s' gs → HasText (this_in s) → (k : AstType) (l : Label) (bodies : ℕ → Bool) (places : ℕ → Field → Bool) (parameters reaches : ℕ → Bool) (up : List Ancestor) (all : Fields) (i : ℕ) → ((j : ℕ) → is_slot (c j).above ≡ true → is_slot_kind k ≡ true) → ((j : ℕ) → bodies j ≡ true → ArrowAt k (i + j)) → ((j : ℕ) (f : Field) → Marked o (c j) (holds_field (is_wrapped_for o) f) (places j f) (parameters j)) → ((j : ℕ) → bodies j ≡ true → (f : Field) → (places j f ≡ true) × (parameters j ≡ false)) →
        AreWideFields bodies fs → EdgesIn stands k i (finished_fields fs) → FieldsHave k c bodies (finished_fields fs) → ArrowsFitIn o places parameters reaches (finished_fields fs) → KeepsIn up k l all i (finished_fields fs) → FieldsKept k l up all i (places zero (field_at 0 (finished_fields fs))) s s' fs gs
    fields-after (in_first {c = c} {f = x} {g = y} {fs = fs} h) named k l bodies places parameters reaches up all i heads arrows marks states wide stand has fit g =
        let r = field-after h named k l (bodies zero) (places zero (finished_field x)) (parameters zero) (reaches zero) up all i (is_last (finished_fields fs)) (heads zero) (arrow-zero bodies k i arrows) (marks zero (finished_field x)) (λ e. states zero e (finished_field x)) wide.0 stand.0 has.0 fit.0 g.0 in
        record { keeps = (r.keeps, g.1); seen = more r.seen (same-fields k (finished_fields fs)); operand = r.operand; names = r.names }
    fields-after (in_later h) named k l bodies places parameters reaches up all i heads arrows marks states wide stand has fit g =
        let r = fields-after h named k l (λ j. bodies (suc j)) (λ j. places (suc j)) (λ j. parameters (suc j)) (λ j. reaches (suc j)) up all (suc i) (λ j. heads (suc j)) (arrow-next bodies k i arrows) (λ j. marks (suc j)) (λ j. states (suc j)) wide.1 stand.1 has.1 fit.1 g.1 in
        record { keeps = (g.0, r.keeps); seen = more same_field r.seen; operand = λ e. inl refl; names = r.names }

    field-after : {n : Site} {s s' : Ledger} {f g : OpenField} → FieldStep R n s f s' g → HasText (this_in s) → (k : AstType) (l : Label) (b arrow parameter reaches : Bool) (up : List Ancestor) (all : Fields) (i : ℕ) (last : Bool) → (is_slot n.above ≡ true → is_slot_kind k ≡ true) → (b ≡ true → ArrowAt k i) → Marked o n (holds_field (is_wrapped_for o) (finished_field f)) arrow parameter → (b ≡ true → (arrow ≡ true) × (parameter ≡ false)) →
        IsWideField b f → EdgesBy stands k i last (finished_field f) → FieldHas k n b (finished_field f) → ArrowsFitBy o arrow parameter reaches (finished_field f) → KeepsBy (ancestor k l all i 0 ∷ up) (finished_field f) → FieldKept k (ancestor k l all i 0 ∷ up) arrow s s' f g
    field-after (in_child {n = n} {t = t} {u = u} h) named k l b arrow parameter reaches up all i last head field marks states wide stand has fit g =
        let r = kept-after h named has.sort (ancestor k l all i 0 ∷ up) arrow parameter reaches has.slot (λ e. slot_head k l all i (head e)) (edge-unlabeled k l all i up last (finished t) stand) marks wide has.formed fit g in
        record { keeps = r.keeps; seen = either (ChangedField true k (one (finished t)) (one (finished u))) r.seen (λ c. child_changed c) (λ e. unseen (slot-hidden k (head e))); operand = r.operand; names = r.names }
    field-after (in_children {ts = ts} {us = us} h) named k l b arrow parameter reaches up all i last head field marks states wide stand has fit g =
        let r = trees-after h named (ancestor k l all i 0 ∷ up) _ arrow parameter reaches has.no_slot (edges-unlabeled k l all i up (finished_trees ts) stand) marks wide has.trees fit g in
        record { keeps = r.keeps; seen = children_changed r.seen; operand = λ e. absurd (cc e); names = r.names }
    field-after (in_body {o = op} {p = p} {q = q} {t = t} {u = u} e y y' h) named k l b arrow parameter reaches up all i last head arrows marks states wide stand has fit g =
        let field = arrows wide.0 in
        let state = states wide.0 in
        let sort = has.arrow wide.0 in
        let bare = formed-inside p (finished t) wide.1 (subst (λ (z : Sort). has_form z (written_body p (finished t)) ≡ true) sort has.formed) in
        let r = kept-after h named s-ArrowFunctionBody (ancestor k l all i 0 ∷ up) arrow parameter reaches (λ d. sym sort ∙ has.slot d) (λ d. slot_head k l all i (head d)) (λ d. arrow-unlabeled k l all i up field.kind) (record { parameter_is = marks.parameter_is; in_slot = λ d w. state.0; belongs = marks.belongs }) wide.2 bare (fit-within o arrow parameter reaches state.0 state.1 p (finished t) wide.1 fit) (body-within l all up k i field p (finished t) wide.1 g) in
        let plain = plain-more p q r.names.names wide.1 r.names.texts r.names.pending in
        record {
          keeps = body-outside l all up k i field q (finished u) plain r.keeps;
          seen = unseen (ap (λ j. is_hidden j) field.kind);
          operand = λ d. inr state.0;
          names = record { names = []; texts = tt; pending = no-names op; this = r.names.this; top = r.names.top };
        }
    field-after (in_list {o = op} {p = p} {q = q} {y = y} {b = d} {ts = ts} {us = us} e e' h) named k l b arrow parameter reaches up all i last head field marks states wide stand has fit g =
        let r = trees-after h named (ancestor k l all i 0 ∷ up) _ arrow parameter reaches has.no_slot (all-unlabeled (ancestor k l all i 0 ∷ up) (finished_trees ts) (list-unlabeled k l all i up has.listed)) marks wide.1 (rest-have (pending_statements p y d) (finished_trees ts) has.trees) (fit-after o arrow parameter reaches (pending_statements p y d) (finished_trees ts) fit) (after-rest (ancestor k l all i 0 ∷ up) (pending_statements p y d) (finished_trees ts) g) in
        let plain = listed-more p q y y d d r.names.names wide.0 r.names.texts r.names.pending (λ h. h) refl in
        record {
          keeps = wide-keeps k l all i up q y d (finished_trees us) has.listed plain r.keeps;
          seen = list_changed;
          operand = λ e. absurd (cc e);
          names = record { names = []; texts = tt; pending = no-names op; this = r.names.this; top = r.names.top };
        }
    field-after (in_target {o = op} {p = p} {q = q} {y = y} {y' = y'} {b = d} {ts = ts} {us = us} e h) named k l b arrow parameter reaches up all i last head field marks states wide stand has fit g =
        let r = trees-after h wide.0.this (ancestor k l all i 0 ∷ up) _ arrow parameter reaches has.no_slot (all-unlabeled (ancestor k l all i 0 ∷ up) (finished_trees ts) (list-unlabeled k l all i up has.listed)) marks wide.1 (rest-have (pending_statements p y d) (finished_trees ts) has.trees) (fit-after o arrow parameter reaches (pending_statements p y d) (finished_trees ts) fit) (after-rest (ancestor k l all i 0 ∷ up) (pending_statements p y d) (finished_trees ts) g) in
        let plain = listed-more p q y y' d d r.names.names wide.0 r.names.texts r.names.pending r.names.this refl in
        record {
          keeps = wide-keeps k l all i up q y' d (finished_trees us) has.listed plain r.keeps;
          seen = list_changed;
          operand = λ e. absurd (cc e);
          names = record { names = []; texts = tt; pending = no-names op; this = λ h. h; top = r.names.top };
        }
    field-after (in_program {o = op} {p = p} {q = q} {y = y} {y' = y'} {b = d} {b' = d'} {ts = ts} {us = us} e h) named k l b arrow parameter reaches up all i last head field marks states wide stand has fit g =
        let r = trees-after h wide.0.this (ancestor k l all i 0 ∷ up) _ arrow parameter reaches has.no_slot (all-unlabeled (ancestor k l all i 0 ∷ up) (finished_trees ts) (list-unlabeled k l all i up has.listed)) marks wide.1 (rest-have (pending_statements p y d) (finished_trees ts) has.trees) (fit-after o arrow parameter reaches (pending_statements p y d) (finished_trees ts) fit) (after-rest (ancestor k l all i 0 ∷ up) (pending_statements p y d) (finished_trees ts) g) in
        let plain = listed-more p q y y' d d' r.names.names wide.0 r.names.texts r.names.pending r.names.this r.names.top in
        record {
          keeps = wide-keeps k l all i up q y' d' (finished_trees us) has.listed plain r.keeps;
          seen = list_changed;
          operand = λ e. absurd (cc e);
          names = record { names = []; texts = tt; pending = no-names op; this = λ h. h; top = refl };
        }
    field-after (acts_on_list {n = n} {s = s} {s' = s'} {p = p} {q = q} {x = x} {y = y} {a = a} {b = d} ts us h) named k l b arrow parameter reaches up all i last head field marks states wide stand has fit g =
        let found = form.at_lists n s s' p q x y a d ts us h wide.0 in
        let same = ap (λ vs. whole_list p x a vs) (finished-trees ts) ∙ found.trees ∙ sym (ap (λ vs. whole_list q y d vs) (finished-trees us)) in
        record { keeps = subst (λ (vs : Trees). KeepsAll (ancestor k l all i 0 ∷ up) vs) same g; seen = list_changed; operand = λ e. absurd (cc e); names = nothing-new s s' found.ledger }
    field-after (acts_on_body {n = n} {s = s} {s' = s'} {p = p} t u h) named k l b arrow parameter reaches up all i last head arrows marks states wide stand has fit g =
        let found = form.at_bodies n s s' p t u h in
        let same = ap (λ x. written_body p x) (finished-opened t) ∙ found.1 ∙ sym (finished-opened u) in
        record { keeps = subst (λ (x : Tree). Keeps (ancestor k l all i 0 ∷ up) x) same g; seen = unseen (ap (λ j. is_hidden j) (arrows wide.0).kind); operand = λ d. inr (states wide.0).0; names = nothing-new s s' found.0 }

    trees-after : {n : Site} {s s' : Ledger} {ts us : OpenTrees} → TreesStep R n s ts s' us → HasText (this_in s) → (up : List Ancestor) (held arrow parameter reaches : Bool) → (is_slot n.above ≡ true → ⊥) → AllUnlabeled up (finished_trees ts) → Marked o n held arrow parameter → AreWideTrees ts → TreesHave (finished_trees ts) → ArrowsFitAll o arrow parameter reaches (finished_trees ts) → KeepsAll up (finished_trees ts) → TreesKept up s s' ts us
    trees-after (in_head {t = t} {u = u} {ts = ts} h) named up held arrow parameter reaches slot labels marks wide has fit g =
        let r = kept-after h named has.0.sort up arrow parameter reaches (λ e. absurd (slot e)) (λ e. absurd (slot e)) labels.0 (record { parameter_is = marks.parameter_is; in_slot = λ e w. absurd (slot e); belongs = marks.belongs }) wide.0 has.0.formed fit.0 g.0 in
        record { keeps = (r.keeps, g.1); seen = some (either (Changed true (finished t) (finished u)) r.seen (λ c. c) (λ e. absurd (slot e))) (same-trees (finished_trees ts)); names = r.names }
    trees-after (in_tail h) named up held arrow parameter reaches slot labels marks wide has fit g =
        let r = trees-after h named up held arrow parameter reaches slot labels.1 marks wide.1 has.1 fit.1 g.1 in
        record { keeps = (g.0, r.keeps); seen = some stays r.seen; names = r.names }
    trees-after (in_flanked h) named up held arrow parameter reaches slot labels marks wide has fit g = absurd wide
    trees-after (after_flanked h) named up held arrow parameter reaches slot labels marks wide has fit g = absurd wide
    trees-after (flanks {n = n} {s = s} {s' = s'} {bs = bs} {cs = cs} t u h) named up held arrow parameter reaches slot labels marks wide has fit g = absurd (form.no_flanks n s s' t u bs cs h)
    trees-after (acts_on_flanked t us h) named up held arrow parameter reaches slot labels marks wide has fit g = absurd wide
