-- In an expression of the class no declarator stands, so what it means doesn't depend on whether a scope around has a stack; and an operand of a further kind
-- means something as a value by itself, wherever it means something.
use Rattle.std.proofs.Common.{◌≡◌, ℕ, zero, suc, refl, sym, subst, List, [], ◌∷◌}
use Rattle.std.proofs.lemmas.Bool.{and_from, and_parts}
use Rattle.std.specs.Prelude.{Bool, true, false, Option, if◌then◌else◌}
use Rattle.es_tree.specs.Names.{first_text}
use Rattle.es_tree.specs.Tree.{Tree, node, Label, Fields, done, ◌then◌, Field, missing, one, many, statements, Trees, empty, ◌before◌, kind_of}
use Rattle.es_tree.specs.Words.{Text}
use Rattle.es_tree.specs.declared.ast_type.AstType.{AstType}
use Rattle.es_tree.specs.declared.ast_type.AstType.TheVariants.{ArrayExpression, AssignmentExpression, AssignmentPattern, BlockStatement, CallExpression, CatchClause, DoWhileStatement, ForInStatement, ForOfStatement, ForStatement, IfStatement, MemberExpression, MetaProperty, ObjectExpression, ParenthesizedExpression, PatternProperty, Program, RegExpLiteral, SpreadElement, SwitchCase, SwitchStatement, TaggedTemplateExpression, TargetProperty, TargetWithDefault, TemplateLiteral, TryStatement, VariableDeclaration, VariableDeclarator, WhileStatement}
use Rattle.es_statement_runs.specs.Helpers.{Supply}
use Rattle.es_statement_runs.specs.Meant.{Role, Slot, Slots, Spot, all_meant, are_meant, as_role, as_statement, assigned_role, bound_role, first_at, has_value, is_meant_at, is_meant_field, is_said, labels_in, named_label, nature, no_exits, parens_role, serves, slots, spots, word_in}
use Rattle.es_statement_runs.specs.Meant.Nature.{declarator_like}
use Rattle.es_statement_runs.specs.Meant.Role.{a_declarator, a_head_declarator, a_part, a_place, a_target, a_template, a_value}
use Rattle.es_statement_runs.specs.Meant.Slot.{a_key, absent, labelled_by, listed, nonempty, optional, passed, required}
use Rattle.es_statement_runs.specs.Meant.Slots.{no_slot, repeated, slot}
use Rattle.es_statement_runs.specs.Names.{names_of_all, own_names, own_use}
use Rattle.es_statement_runs.specs.Operands.{is_further_kind}
use Rattle.es_statement_steps.proofs.Below.{Below, BelowField, BelowTrees, by_parts}
use Rattle.es_statement_steps.proofs.DeclaredNames.{from_children}
use Rattle.es_statement_steps.proofs.Stands.{is_inner, standing}
use Rattle.es_statement_steps.proofs.StepMoves.{Fine}

abbrev with_uses : Bool → Spot → Spot
with_uses b c = record { role = c.role; exits = c.exits; uses = b }

abbrev is_declaring : Role → Bool
is_declaring a_declarator = true
is_declaring a_head_declarator = true
is_declaring r = false

-- WHERE THE FIELDS of an expression stand: none is a declarator's place, and a stack is there where one is around

abbrev Apart : Bool → Spot → Spot → Type 0
Apart b c d = (d ≡ with_uses b c) × (is_declaring c.role ≡ false)

first-apart : (b : Bool) (c d : Spot) (i : ℕ) → is_declaring c.role ≡ false → is_declaring d.role ≡ false → Apart b (first_at c d i) (first_at (with_uses b c) (with_uses b d) i)
first-apart b c d zero g h = (refl, g)
first-apart b c d (suc i) g h = (refl, h)

bound-apart : (r : Role) (v : Bool) → is_declaring (bound_role r v) ≡ false
bound-apart a_declarator false = refl
bound-apart a_declarator true = refl
bound-apart _ v = refl

either-apart : (b : Bool) → is_declaring (if b then a_target false else a_place) ≡ false
either-apart true = refl
either-apart false = refl

parens-apart : (r : Role) → is_declaring (parens_role r) ≡ false
parens-apart a_value = refl
parens-apart _ = refl

spots-apart : (b : Bool) (c : Spot) (k : AstType) (ts : List (Option Text)) (n v : Bool) (ns ls : List Text) → is_inner k ≡ true → (i : ℕ) → Apart b (spots c k ts n v ns ls i) (spots (with_uses b c) k ts n v ns ls i)
spots-apart b c VariableDeclarator ts n v ns ls e i = first-apart b (as_role (bound_role c.role v) c.uses) (as_role a_value c.uses) i (bound-apart c.role v) refl
spots-apart b c TemplateLiteral ts n v ns ls e i = first-apart b (as_role a_part c.uses) (as_role a_value c.uses) i refl refl
spots-apart b c TaggedTemplateExpression ts n v ns ls e i = first-apart b (as_role a_value c.uses) (as_role a_template c.uses) i refl refl
spots-apart b c AssignmentExpression ts n v ns ls e i = first-apart b (as_role (assigned_role (first_text ts)) c.uses) (as_role a_value c.uses) i (either-apart _) refl
spots-apart b c MemberExpression ts n v ns ls e i = first-apart b (as_statement (no_exits c.exits.cuts) c.uses) (as_role a_value c.uses) i refl refl
spots-apart b c CallExpression ts n v ns ls e i = first-apart b (as_statement (no_exits c.exits.cuts) c.uses) (as_role a_value c.uses) i refl refl
spots-apart b c PatternProperty ts n v ns ls e i = first-apart b (as_role a_value c.uses) (as_role (a_target true) c.uses) i refl refl
spots-apart b c TargetProperty ts n v ns ls e i = first-apart b (as_role a_value c.uses) (as_role (a_target false) c.uses) i refl refl
spots-apart b c AssignmentPattern ts n v ns ls e i = first-apart b (as_role (a_target true) c.uses) (as_role a_value c.uses) i refl refl
spots-apart b c TargetWithDefault ts n v ns ls e i = first-apart b (as_role (a_target false) c.uses) (as_role a_value c.uses) i refl refl
spots-apart b c ParenthesizedExpression ts n v ns ls e i = (refl, parens-apart c.role)
spots-apart b c Program ts n v ns ls e i = absurd (cc e)
spots-apart b c BlockStatement ts n v ns ls e i = absurd (cc e)
spots-apart b c VariableDeclaration ts n v ns ls e i = absurd (cc e)
spots-apart b c IfStatement ts n v ns ls e i = absurd (cc e)
spots-apart b c ForStatement ts n v ns ls e i = absurd (cc e)
spots-apart b c ForInStatement ts n v ns ls e i = absurd (cc e)
spots-apart b c ForOfStatement ts n v ns ls e i = absurd (cc e)
spots-apart b c WhileStatement ts n v ns ls e i = absurd (cc e)
spots-apart b c DoWhileStatement ts n v ns ls e i = absurd (cc e)
spots-apart b c SwitchStatement ts n v ns ls e i = absurd (cc e)
spots-apart b c SwitchCase ts n v ns ls e i = absurd (cc e)
spots-apart b c TryStatement ts n v ns ls e i = absurd (cc e)
spots-apart b c CatchClause ts n v ns ls e i = absurd (cc e)
spots-apart b c _ ts n v ns ls e i = (refl, refl)

-- WHAT A NODE SAYS ITSELF

no-declarator : (r : Role) → is_declaring r ≡ false → serves declarator_like r ≡ true → ⊥
no-declarator a_declarator d h = absurd (cc d)
no-declarator a_head_declarator d h = absurd (cc d)
no-declarator _ d h = absurd (cc h)

module _ (u : Supply) (b : Bool) where
  said-apart : (c : Spot) (k : AstType) (ts : List (Option Text)) (fs : List Bool) (v : Bool) (xs ns : List Text) (x : Text) → is_declaring c.role ≡ false → serves (nature k) c.role ≡ true → is_said u c k ts fs v xs ns x ≡ true → is_said u (with_uses b c) k ts fs v xs ns x ≡ true
  said-apart c VariableDeclarator ts fs v xs ns x d s h = absurd (no-declarator c.role d s)
  said-apart c _ ts fs v xs ns x d s h = h

  -- TREES

  abbrev Moves : Tree → Type 0
  Moves t = (c : Spot) (ls : List Text) (x : Text) → is_declaring c.role ≡ false → is_meant_at u c ls x t ≡ true → is_meant_at u (with_uses b c) ls x t ≡ true

  trees-move : (ts : Trees) → BelowTrees Moves ts → (c : Spot) (ls : List Text) (x : Text) → is_declaring c.role ≡ false → all_meant u c ls x ts ≡ true → all_meant u (with_uses b c) ls x ts ≡ true
  trees-move empty below c ls x d h = refl
  trees-move (t before ts) below c ls x d h =
      let p = and_parts (is_meant_at u c ls x t) (all_meant u c ls x ts) h in
      and_from (is_meant_at u (with_uses b c) ls x t) (all_meant u (with_uses b c) ls x ts) (below.0 c ls x d p.0) (trees-move ts below.1 c ls x d p.1)

  field-moves : (s : Slot) (f : Field) → BelowField Moves f → (c : Spot) (ls : List Text) (x : Text) → is_declaring c.role ≡ false → is_meant_field u s c ls x f ≡ true → is_meant_field u s (with_uses b c) ls x f ≡ true
  field-moves required (one t) below c ls x d h = below c ls x d h
  field-moves optional missing below c ls x d h = refl
  field-moves optional (one t) below c ls x d h = below c ls x d h
  field-moves absent missing below c ls x d h = refl
  field-moves listed (many ts) below c ls x d h = trees-move ts below c ls x d h
  field-moves listed (statements ts) below c ls x d h = trees-move ts below c ls x d h
  field-moves nonempty (many (t before ts)) below c ls x d h = trees-move (t before ts) below c ls x d h
  field-moves a_key (one t) below c ls x d h = refl
  field-moves passed f below c ls x d h = refl
  field-moves (labelled_by ns) f below c ls x d h = label-moves ns f c ls x h
    where
      label-moves : (ns : List Text) (f : Field) (c : Spot) (ls : List Text) (x : Text) → is_meant_field u (labelled_by ns) c ls x f ≡ true → is_meant_field u (labelled_by ns) (with_uses b c) ls x f ≡ true
      label-moves [] missing c ls x h = refl
      label-moves (n ∷ []) (one t) c ls x h = h
      label-moves _ _ c ls x h = absurd (cc h)
  field-moves _ _ below c ls x d h = absurd (cc h)

  fields-move : (ss : Slots) (fs : Fields) → Below (λ i. Moves) fs → (at next : ℕ → Spot) → ((i : ℕ) → Apart b (at i) (next i)) → (ls : List Text) (x : Text) → are_meant u ss at ls x fs ≡ true → are_meant u ss next ls x fs ≡ true
  fields-move no_slot done below at next apart ls x h = refl
  fields-move no_slot (f then fs) below at next apart ls x h = absurd (cc h)
  fields-move (slot s ss) done below at next apart ls x h = absurd (cc h)
  fields-move (slot s ss) (f then fs) below at next apart ls x h =
      let p = and_parts (is_meant_field u s (at zero) ls x f) (are_meant u ss (λ i. at (suc i)) ls x fs) h in
      and_from (is_meant_field u s (next zero) ls x f) (are_meant u ss (λ i. next (suc i)) ls x fs)
      (subst (λ (c : Spot). is_meant_field u s c ls x f ≡ true) (sym (apart zero).0) (field-moves s f below.0 (at zero) ls x (apart zero).1 p.0))
      (fields-move ss fs below.1 (λ i. at (suc i)) (λ i. next (suc i)) (λ i. apart (suc i)) ls x p.1)
  fields-move (repeated s) done below at next apart ls x h = refl
  fields-move (repeated s) (f then fs) below at next apart ls x h =
      let p = and_parts (is_meant_field u s (at zero) ls x f) (are_meant u (repeated s) (λ i. at (suc i)) ls x fs) h in
      and_from (is_meant_field u s (next zero) ls x f) (are_meant u (repeated s) (λ i. next (suc i)) ls x fs)
      (subst (λ (c : Spot). is_meant_field u s c ls x f ≡ true) (sym (apart zero).0) (field-moves s f below.0 (at zero) ls x (apart zero).1 p.0))
      (fields-move (repeated s) fs below.1 (λ i. at (suc i)) (λ i. next (suc i)) (λ i. apart (suc i)) ls x p.1)

  abbrev Uses : Tree → Type 0
  Uses t = is_inner (kind_of t) ≡ true → Fine t → Moves t

  uses-at : (k : AstType) (l : Label) (fs : Fields) → Below (λ i. Uses) fs → Uses (node k l fs)
  uses-at k l fs below e fine c ls x d h =
      let v = has_value k fs in
      let ns = named_label k fs in
      let xs = names_of_all (own_names k fs) in
      let n = own_use k fs in
      let p = and_parts (serves (nature k) c.role) _ h in
      let q = and_parts (is_said u c k l.texts l.flags v xs ns x) _ p.1 in
      and_from (serves (nature k) c.role) _ p.0
      (and_from (is_said u (with_uses b c) k l.texts l.flags v xs ns x) _ (said-apart c k l.texts l.flags v xs ns x d p.0 q.0)
      (fields-move (slots k l.flags v ns) fs (from_children k l fs (λ i. Uses) (λ i. Moves) (standing k l fs fine) below (λ i t g ch. g (ch.stands_there.inner e) ch.nodes))
      (spots c k l.texts n v ns ls) (spots (with_uses b c) k l.texts n v ns ls) (spots-apart b c k l.texts n v ns ls e) (labels_in k ns ls) (word_in k l.texts) q.1))

  pub uses-apart : (t : Tree) → is_inner (kind_of t) ≡ true → Fine t → Moves t
  uses-apart t = by_parts Uses uses-at t

-- OPERANDS OF FURTHER KINDS

further-inner : (k : AstType) → is_further_kind k ≡ true → is_inner k ≡ true
further-inner RegExpLiteral e = refl
further-inner TemplateLiteral e = refl
further-inner TaggedTemplateExpression e = refl
further-inner ArrayExpression e = refl
further-inner SpreadElement e = refl
further-inner ObjectExpression e = refl
further-inner MetaProperty e = refl
further-inner AssignmentExpression e = refl
further-inner _ e = absurd (cc e)

module _ (u : Supply) where
  -- as a value, where a stack is around or not as it was
  alone : (c : Spot) (ls : List Text) (x : Text) (k : AstType) (l : Label) (fs : Fields) → is_further_kind k ≡ true → is_meant_at u c ls x (node k l fs) ≡ true → is_meant_at u (as_role a_value c.uses) [] [] (node k l fs) ≡ true
  alone c ls x RegExpLiteral l fs e h = (and_parts (serves (nature RegExpLiteral) c.role) _ h).1
  alone c ls x TemplateLiteral l fs e h = (and_parts (serves (nature TemplateLiteral) c.role) _ h).1
  alone c ls x TaggedTemplateExpression l fs e h = (and_parts (serves (nature TaggedTemplateExpression) c.role) _ h).1
  alone c ls x ArrayExpression l fs e h = (and_parts (serves (nature ArrayExpression) c.role) _ h).1
  alone c ls x SpreadElement l fs e h = (and_parts (serves (nature SpreadElement) c.role) _ h).1
  alone c ls x ObjectExpression l fs e h = (and_parts (serves (nature ObjectExpression) c.role) _ h).1
  alone c ls x MetaProperty l fs e h = (and_parts (serves (nature MetaProperty) c.role) _ h).1
  alone c ls x AssignmentExpression l fs e h = (and_parts (serves (nature AssignmentExpression) c.role) _ h).1
  alone c ls x _ l fs e h = absurd (cc e)

  pub further-meant : (c : Spot) (ls : List Text) (x : Text) (k : AstType) (l : Label) (fs : Fields) → is_further_kind k ≡ true → Fine (node k l fs) → is_meant_at u c ls x (node k l fs) ≡ true → is_meant_at u (as_role a_value false) [] [] (node k l fs) ≡ true
  further-meant c ls x k l fs e fine h = uses-apart u false (node k l fs) (further-inner k e) fine (as_role a_value c.uses) [] [] refl (alone c ls x k l fs e h)
