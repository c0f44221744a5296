-- What the meaning of a node doesn't look at holds names, numbers and strings alone, in a tree that has form: keys that aren't computed, labels, and what
-- imports and exports name in another module.
use Rattle.std.proofs.Common.{◌≡◌, ℕ, zero, suc, refl, ap, subst, List, [], ◌∷◌, ◌∙◌}
use Rattle.std.proofs.lemmas.Bool.{and_from, and_parts, false≢true}
use Rattle.std.specs.Prelude.{Bool, true, false, not, ◌&&◌, ◌||◌, Some, if◌then◌else◌}
use Rattle.es_tree.specs.Attributes.{child_entries, flag_entries}
use Rattle.es_tree.specs.HasForm.{ElementsPlace, elements_of, field_form, flag_of, has_form, is_computed, sort_at}
use Rattle.es_tree.specs.Names.{flag_at}
use Rattle.es_tree.specs.Tree.{Tree, node, Label, Fields, done, ◌then◌, Field, missing, one, many, statements, Trees, empty, ◌before◌, kind_of}
use Rattle.es_tree.specs.declared.ast_type.AstType.{AstType}
use Rattle.es_tree.specs.declared.ast_type.AstType.TheVariants.{ArrayExpression, ArrayPattern, ArrayTarget, ArrowFunctionExpression, BigIntLiteral, BooleanLiteral, BreakStatement, ClassDeclaration, ClassExpression, ContinueStatement, DebuggerStatement, Directive, EmptyStatement, ExportAllDeclaration, ExportNamedDeclaration, ExportSpecifier, FunctionBody, FunctionDeclaration, FunctionExpression, Identifier, ImportAttribute, ImportDeclaration, ImportDefaultSpecifier, ImportNamespaceSpecifier, ImportSpecifier, LabeledStatement, MemberExpression, MetaProperty, MethodDefinition, NullLiteral, NumericLiteral, ObjectProperty, PatternProperty, PrivateIdentifier, Program, PropertyDefinition, RegExpLiteral, ReturnStatement, StaticBlock, StringLiteral, Super, TargetProperty, TemplateElement, ThisExpression, VariableDeclarator}
use Rattle.es_tree.specs.declared.table.FieldName.TheVariants.{Computed as f-Computed}
use Rattle.es_tree.specs.declared.table.Sort.{Sort}
use Rattle.es_tree.specs.declared.table.Sort.TheVariants.{Expression as s-Expression, MemberProperty as s-MemberProperty, PropertyKey as s-PropertyKey}
use Rattle.es_tree.specs.declared.table.Often.TheVariants.{Required}
use Rattle.es_tree.specs.declared.table.Content.TheVariants.{Child as c-Child}
use Rattle.es_tree.proofs.NodeForm.{has_form-node}
use Rattle.es_semantic.proofs.FormEdges.{EdgesAll, EdgesBy, EdgesIn, ElementsFit, TableFits, edges-inside, elements-are, entries_fit, is_last}
use Rattle.es_resolution.proofs.AllForms.{All, all-tree}
use Rattle.es_runs.specs.Core.{flag}
use Rattle.es_statement_runs.specs.Meant.{Slot, Slots, has_value, key_slot, named_label, slots, value_slot}
use Rattle.es_statement_runs.specs.Meant.Slot.{a_key, labelled_by, passed}
use Rattle.es_statement_runs.specs.Meant.Slots.{no_slot, repeated, slot}
use Rattle.es_statement_runs.specs.Programs.{is_statement_kind}
use Rattle.es_statement_runs.proofs.ValidForm.{kind_passes, of_sort}
use Rattle.es_statement_runs.proofs.ValidNodes.{FormOf}
use Rattle.es_statement_runs.proofs.ValidStands.{first_field, later_fields}
use Rattle.es_statement_steps.proofs.Below.{field_passes, fields_pass, trees_pass}
use Rattle.es_statement_steps.proofs.Stands.{implied}

-- names, numbers and strings, and what imports and exports have of them
abbrev pub is_quiet : AstType → Bool
is_quiet Identifier = true
is_quiet PrivateIdentifier = true
is_quiet NumericLiteral = true
is_quiet BigIntLiteral = true
is_quiet StringLiteral = true
is_quiet ImportAttribute = true
is_quiet ExportSpecifier = true
is_quiet k = false

abbrev pub is_quiet_tree : Tree → Bool
is_quiet_tree t = is_quiet (kind_of t)

-- SLOTS THAT AREN'T LOOKED AT

abbrev pub is_passed : Slot → Bool
is_passed a_key = true
is_passed passed = true
is_passed (labelled_by ns) = true
is_passed s = false

abbrev pub told_at : Slot → Field → Bool
told_at s f = not (is_passed s) || field_passes is_quiet_tree f

abbrev pub told_all : Slot → Fields → Bool
told_all s fs = not (is_passed s) || fields_pass (λ i. is_quiet_tree) fs

abbrev pub told_in : Slots → Fields → Bool
told_in no_slot fs = true
told_in (slot s ss) fs = told_at s (first_field fs) && told_in ss (later_fields fs)
told_in (repeated s) fs = told_all s fs

-- of a node of the class
abbrev pub Told : AstType → Label → Fields → Type 0
Told k l fs = is_statement_kind k ≡ true → told_in (slots k l.flags (has_value k fs) (named_label k fs)) fs ≡ true

-- BY THE TABLE OF FIELDS

abbrev is_told : AstType → ℕ → Bool
is_told BreakStatement i = true
is_told ContinueStatement i = true
is_told LabeledStatement zero = true
is_told ImportDeclaration (suc i) = true
is_told ImportSpecifier i = true
is_told ImportDefaultSpecifier i = true
is_told ImportNamespaceSpecifier i = true
is_told ExportNamedDeclaration (suc i) = true
is_told ExportSpecifier i = true
is_told ExportAllDeclaration i = true
is_told Directive i = true
is_told EmptyStatement i = true
is_told DebuggerStatement i = true
is_told ImportAttribute i = true
is_told Identifier i = true
is_told ThisExpression i = true
is_told NullLiteral i = true
is_told BooleanLiteral i = true
is_told NumericLiteral i = true
is_told BigIntLiteral i = true
is_told StringLiteral i = true
is_told RegExpLiteral i = true
is_told TemplateElement i = true
is_told MetaProperty i = true
is_told k i = false

abbrev edge : AstType → ℕ → Bool → AstType → Bool
edge k i last j = not (is_told k i) || is_quiet j

entries_are : (k : AstType) → entries_fit edge k 0 (child_entries k) ≡ true
entries_are Program = refl
entries_are _ = refl

elements_are : (k : AstType) (p : ElementsPlace) → elements_of (child_entries k) ≡ Some p → ElementsFit edge k p
elements_are ArrayExpression p e = elements-are edge ArrayExpression _ p e (record { sort = λ i b. refl; last = λ i b. refl })
elements_are ArrayPattern p e = elements-are edge ArrayPattern _ p e (record { sort = λ i b. refl; last = λ i b. refl })
elements_are ArrayTarget p e = elements-are edge ArrayTarget _ p e (record { sort = λ i b. refl; last = λ i b. refl })
elements_are _ p e = absurd (cc e)

table : TableFits edge
table = record { entries = entries_are; elements = elements_are }

module _ (k : AstType) where
  trees-quiet : (i : ℕ) (ts : Trees) → is_told k i ≡ true → EdgesAll edge k i ts → trees_pass is_quiet_tree ts ≡ true
  trees-quiet i empty t e = refl
  trees-quiet i (node j l fs before ts) t e = and_from (is_quiet j) (trees_pass is_quiet_tree ts) (implied (is_told k i) (is_quiet j) e.0.0 t) (trees-quiet i ts t e.1)

  field-quiet : (i : ℕ) (last : Bool) (f : Field) → is_told k i ≡ true → EdgesBy edge k i last f → field_passes is_quiet_tree f ≡ true
  field-quiet i last missing t e = refl
  field-quiet i last (one (node j l fs)) t e = implied (is_told k i) (is_quiet j) e.0 t
  field-quiet i last (many ts) t e = trees-quiet i ts t e
  field-quiet i last (statements ts) t e = trees-quiet i ts t e

  first-quiet : (i : ℕ) (fs : Fields) → is_told k i ≡ true → EdgesIn edge k i fs → field_passes is_quiet_tree (first_field fs) ≡ true
  first-quiet i done t e = refl
  first-quiet i (f then fs) t e = field-quiet i (is_last fs) f t e.0

  later-edges : (i : ℕ) (fs : Fields) → EdgesIn edge k i fs → EdgesIn edge k (suc i) (later_fields fs)
  later-edges i done e = tt
  later-edges i (f then fs) e = e.1

  later-quiet : (i : ℕ) (fs : Fields) → ((n : ℕ) → is_told k (suc n) ≡ true) → EdgesIn edge k (suc i) fs → fields_pass (λ n. is_quiet_tree) fs ≡ true
  later-quiet i done t e = refl
  later-quiet i (f then fs) t e = and_from (field_passes is_quiet_tree f) (fields_pass (λ n. is_quiet_tree) fs) (field-quiet (suc i) (is_last fs) f (t i) e.0) (later-quiet (suc i) fs t e.1)

  all-quiet : (fs : Fields) → ((n : ℕ) → is_told k n ≡ true) → EdgesIn edge k 0 fs → fields_pass (λ n. is_quiet_tree) fs ≡ true
  all-quiet done t e = refl
  all-quiet (f then fs) t e = and_from (field_passes is_quiet_tree f) (fields_pass (λ n. is_quiet_tree) fs) (field-quiet 0 (is_last fs) f (t 0) e.0) (later-quiet 0 fs (λ n. t (suc n)) e.1)

-- KEYS, by whether they are computed

object-computed : (bs : List Bool) → flag_of f-Computed (flag_entries ObjectProperty) bs ≡ flag_at 2 bs
object-computed [] = refl
object-computed (a ∷ []) = refl
object-computed (a ∷ (b ∷ [])) = refl
object-computed (a ∷ (b ∷ (c ∷ bs))) = refl

pattern-computed : (bs : List Bool) → flag_of f-Computed (flag_entries PatternProperty) bs ≡ flag_at 1 bs
pattern-computed [] = refl
pattern-computed (a ∷ []) = refl
pattern-computed (a ∷ (b ∷ bs)) = refl

target-computed : (bs : List Bool) → flag_of f-Computed (flag_entries TargetProperty) bs ≡ flag_at 1 bs
target-computed [] = refl
target-computed (a ∷ []) = refl
target-computed (a ∷ (b ∷ bs)) = refl

member-computed : (bs : List Bool) → flag_of f-Computed (flag_entries MemberExpression) bs ≡ flag bs
member-computed [] = refl
member-computed (a ∷ bs) = refl

module _ (k : AstType) (l : Label) (s : Sort) (quiet : of_sort is_quiet s ≡ true) (same : sort_at k l s ≡ (if is_computed k l then s-Expression else s)) where
  key-named : (b : Bool) (t : Tree) → is_computed k l ≡ b → has_form (sort_at k l s) t ≡ true → (b || is_quiet_tree t) ≡ true
  key-named true t e h = refl
  key-named false t e h = kind_passes is_quiet s t (subst (λ (z : Sort). has_form z t ≡ true) (same ∙ ap (λ (c : Bool). if c then s-Expression else s) e) h) quiet

  key-quiet : (b : Bool) (f : Field) → is_computed k l ≡ b → field_form k l (c-Child s Required) f ≡ true → (b || field_passes is_quiet_tree f) ≡ true
  key-quiet b (one t) e h = key-named b t e h
  key-quiet b missing e h = absurd (false≢true h)
  key-quiet b (many ts) e h = absurd (false≢true h)
  key-quiet b (statements ts) e h = absurd (false≢true h)

key-told : (b : Bool) (f : Field) → (b || field_passes is_quiet_tree f) ≡ true → told_at (key_slot b) f ≡ true
key-told true f h = refl
key-told false f h = h

value-told : (b : Bool) (f : Field) → told_at (value_slot b) f ≡ true
value-told true f = refl
value-told false f = refl

object-key : (l : Label) (fs : Fields) → FormOf ObjectProperty l fs → (flag_at 2 l.flags || field_passes is_quiet_tree (first_field fs)) ≡ true
object-key l (f then fs) m = key-quiet ObjectProperty l s-PropertyKey refl refl (flag_at 2 l.flags) f (object-computed l.flags) (and_parts (field_form ObjectProperty l (c-Child s-PropertyKey Required) f) _ m).0
object-key l done m = absurd (false≢true m)

pattern-key : (l : Label) (fs : Fields) → FormOf PatternProperty l fs → (flag_at 1 l.flags || field_passes is_quiet_tree (first_field fs)) ≡ true
pattern-key l (f then fs) m = key-quiet PatternProperty l s-PropertyKey refl refl (flag_at 1 l.flags) f (pattern-computed l.flags) (and_parts (field_form PatternProperty l (c-Child s-PropertyKey Required) f) _ m).0
pattern-key l done m = absurd (false≢true m)

target-key : (l : Label) (fs : Fields) → FormOf TargetProperty l fs → (flag_at 1 l.flags || field_passes is_quiet_tree (first_field fs)) ≡ true
target-key l (f then fs) m = key-quiet TargetProperty l s-PropertyKey refl refl (flag_at 1 l.flags) f (target-computed l.flags) (and_parts (field_form TargetProperty l (c-Child s-PropertyKey Required) f) _ m).0
target-key l done m = absurd (false≢true m)

member-key : (l : Label) (fs : Fields) → FormOf MemberExpression l fs → (flag l.flags || field_passes is_quiet_tree (first_field (later_fields fs))) ≡ true
member-key l (f then (g then fs)) m =
    key-quiet MemberExpression l s-MemberProperty refl refl (flag l.flags) g (member-computed l.flags) (and_parts (field_form MemberExpression l (c-Child s-MemberProperty Required) g) _ (and_parts (field_form MemberExpression l (c-Child s-Expression Required) f) _ m).1).0
member-key l (f then done) m = absurd (false≢true (and_parts _ false m).1)
member-key l done m = absurd (false≢true m)

-- EACH KIND

property-told : (b : Bool) (fs : Fields) → (b || field_passes is_quiet_tree (first_field fs)) ≡ true → (told_at (key_slot b) (first_field fs) && true) ≡ true
property-told b fs h = and_from (told_at (key_slot b) (first_field fs)) true (key-told b (first_field fs) h) refl

label-told : (f : Field) → field_passes is_quiet_tree f ≡ true → (field_passes is_quiet_tree f && true) ≡ true
label-told f h = and_from (field_passes is_quiet_tree f) true h refl

kind-told : (k : AstType) (l : Label) (fs : Fields) → FormOf k l fs → EdgesIn edge k 0 fs → Told k l fs
kind-told ObjectProperty l fs m e c = property-told (flag_at 2 l.flags) fs (object-key l fs m)
kind-told PatternProperty l fs m e c = property-told (flag_at 1 l.flags) fs (pattern-key l fs m)
kind-told TargetProperty l fs m e c = property-told (flag_at 1 l.flags) fs (target-key l fs m)
kind-told MemberExpression l fs m e c = and_from (told_at (key_slot (flag l.flags)) (first_field (later_fields fs))) true (key-told (flag l.flags) (first_field (later_fields fs)) (member-key l fs m)) refl
kind-told VariableDeclarator l fs m e c = and_from (told_at (value_slot (has_value VariableDeclarator fs)) (first_field (later_fields fs))) true (value-told (has_value VariableDeclarator fs) (first_field (later_fields fs))) refl
kind-told BreakStatement l fs m e c = label-told (first_field fs) (first-quiet BreakStatement 0 fs refl e)
kind-told ContinueStatement l fs m e c = label-told (first_field fs) (first-quiet ContinueStatement 0 fs refl e)
kind-told LabeledStatement l fs m e c = label-told (first_field fs) (first-quiet LabeledStatement 0 fs refl e)
kind-told ImportDeclaration l fs m e c =
    let gs = later_fields fs in
    let d = later-edges ImportDeclaration 0 fs e in
    and_from (field_passes is_quiet_tree (first_field gs)) (fields_pass (λ n. is_quiet_tree) (later_fields gs)) (first-quiet ImportDeclaration 1 gs refl d) (later-quiet ImportDeclaration 1 (later_fields gs) (λ n. refl) (later-edges ImportDeclaration 1 gs d))
kind-told ImportSpecifier l fs m e c =
    let gs = later_fields fs in
    and_from (field_passes is_quiet_tree (first_field fs)) (field_passes is_quiet_tree (first_field gs) && true) (first-quiet ImportSpecifier 0 fs refl e) (label-told (first_field gs) (first-quiet ImportSpecifier 1 gs refl (later-edges ImportSpecifier 0 fs e)))
kind-told ExportNamedDeclaration l fs m e c = later-quiet ExportNamedDeclaration 0 (later_fields fs) (λ n. refl) (later-edges ExportNamedDeclaration 0 fs e)
kind-told ExportAllDeclaration l fs m e c =
    let gs = later_fields fs in
    let d = later-edges ExportAllDeclaration 0 fs e in
    and_from (field_passes is_quiet_tree (first_field fs)) (field_passes is_quiet_tree (first_field gs) && fields_pass (λ n. is_quiet_tree) (later_fields gs)) (first-quiet ExportAllDeclaration 0 fs refl e)
    (and_from (field_passes is_quiet_tree (first_field gs)) (fields_pass (λ n. is_quiet_tree) (later_fields gs)) (first-quiet ExportAllDeclaration 1 gs refl d) (later-quiet ExportAllDeclaration 1 (later_fields gs) (λ n. refl) (later-edges ExportAllDeclaration 1 gs d)))
kind-told Directive l fs m e c = all-quiet Directive fs (λ n. refl) e
kind-told EmptyStatement l fs m e c = all-quiet EmptyStatement fs (λ n. refl) e
kind-told DebuggerStatement l fs m e c = all-quiet DebuggerStatement fs (λ n. refl) e
kind-told ImportDefaultSpecifier l fs m e c = all-quiet ImportDefaultSpecifier fs (λ n. refl) e
kind-told ImportNamespaceSpecifier l fs m e c = all-quiet ImportNamespaceSpecifier fs (λ n. refl) e
kind-told ImportAttribute l fs m e c = all-quiet ImportAttribute fs (λ n. refl) e
kind-told ExportSpecifier l fs m e c = all-quiet ExportSpecifier fs (λ n. refl) e
kind-told Identifier l fs m e c = all-quiet Identifier fs (λ n. refl) e
kind-told ThisExpression l fs m e c = all-quiet ThisExpression fs (λ n. refl) e
kind-told NullLiteral l fs m e c = all-quiet NullLiteral fs (λ n. refl) e
kind-told BooleanLiteral l fs m e c = all-quiet BooleanLiteral fs (λ n. refl) e
kind-told NumericLiteral l fs m e c = all-quiet NumericLiteral fs (λ n. refl) e
kind-told BigIntLiteral l fs m e c = all-quiet BigIntLiteral fs (λ n. refl) e
kind-told StringLiteral l fs m e c = all-quiet StringLiteral fs (λ n. refl) e
kind-told RegExpLiteral l fs m e c = all-quiet RegExpLiteral fs (λ n. refl) e
kind-told TemplateElement l fs m e c = all-quiet TemplateElement fs (λ n. refl) e
kind-told MetaProperty l fs m e c = all-quiet MetaProperty fs (λ n. refl) e
kind-told StaticBlock l fs m e c = absurd (cc c)
kind-told FunctionDeclaration l fs m e c = absurd (cc c)
kind-told FunctionExpression l fs m e c = absurd (cc c)
kind-told FunctionBody l fs m e c = absurd (cc c)
kind-told ArrowFunctionExpression l fs m e c = absurd (cc c)
kind-told ClassDeclaration l fs m e c = absurd (cc c)
kind-told ClassExpression l fs m e c = absurd (cc c)
kind-told MethodDefinition l fs m e c = absurd (cc c)
kind-told PropertyDefinition l fs m e c = absurd (cc c)
kind-told ReturnStatement l fs m e c = absurd (cc c)
kind-told PrivateIdentifier l fs m e c = absurd (cc c)
kind-told Super l fs m e c = absurd (cc c)
kind-told _ l fs m e c = refl

-- each node of a tree that has form
pub form-told : (s : Sort) (t : Tree) → has_form s t ≡ true → All Told t
form-told s t h = all-tree Told (λ s k l fs form. kind-told k l fs form.children (edges-inside edge table s k l fs (has_form-node s k l fs form))) s t h
