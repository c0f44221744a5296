-- Where a program of the class means something, so does each operand of a further kind in it, as a value by itself.
use Rattle.std.proofs.Common.{◌≡◌, ℕ, zero, suc, refl, List, []}
use Rattle.std.proofs.lemmas.Bool.{and_from, and_parts, or_right}
use Rattle.std.specs.Prelude.{Bool, true, false, not, ◌&&◌, ◌||◌}
use Rattle.es_tree.specs.HasForm.{has_form}
use Rattle.es_tree.specs.Tree.{Tree, node, Label, Fields, done, ◌then◌, Field, missing, one, many, statements, Trees, empty, ◌before◌}
use Rattle.es_tree.specs.Walks.{all_in_field, all_in_fields, all_in_trees, all_nodes}
use Rattle.es_tree.specs.Words.{Text}
use Rattle.es_tree.specs.declared.ast_type.AstType.{AstType}
use Rattle.es_tree.specs.declared.ast_type.AstType.TheVariants.{BigIntLiteral, ExportSpecifier, Identifier, ImportAttribute, NumericLiteral, PrivateIdentifier, StringLiteral}
use Rattle.es_tree.specs.declared.table.Sort.TheVariants.{Program as s-Program}
use Rattle.es_resolution.proofs.AllForms.{All, AllAmong, AllBy, AllIn}
use Rattle.es_runs.specs.Core.{is_other}
use Rattle.es_statement_runs.specs.Helpers.Supply.{no_helpers}
use Rattle.es_statement_runs.specs.Meant.{Slot, Slots, Spot, all_meant, are_meant, as_role, has_value, is_meant, is_meant_at, is_meant_field, is_said, labels_in, named_label, nature, serves, slots, spots, word_in}
use Rattle.es_statement_runs.specs.Meant.Role.{a_value}
use Rattle.es_statement_runs.specs.Meant.Slot.{a_key, absent, labelled_by, listed, nonempty, optional, passed, required}
use Rattle.es_statement_runs.specs.Meant.Slots.{no_slot, repeated, slot}
use Rattle.es_statement_runs.specs.Names.{names_of_all, own_names, own_use}
use Rattle.es_statement_runs.specs.Operands.{is_further_kind}
use Rattle.es_statement_steps.proofs.Below.{field_passes, fields_pass, trees_pass}
use Rattle.es_statement_steps.proofs.MeantOperands.{meant_node}
use Rattle.es_statement_steps.proofs.SettledOperands.{is_meant_operand}
use Rattle.es_statement_steps.proofs.Stands.{standing, stands}
use Rattle.es_statement_steps.proofs.StepMoves.{Fine}
use Rattle.es_statement_steps.proofs.ToldFields.{Told, form-told, is_passed, is_quiet, is_quiet_tree, told_all, told_at, told_in}
use Rattle.es_statement_steps.proofs.UsesApart.{further-meant}

-- WHAT ISN'T LOOKED AT holds no operands

quiet-node : (k : AstType) (l : Label) (fs : Fields) → is_quiet k ≡ true → meant_node k l fs ≡ true
quiet-node Identifier l fs q = refl
quiet-node PrivateIdentifier l fs q = refl
quiet-node NumericLiteral l fs q = refl
quiet-node BigIntLiteral l fs q = refl
quiet-node StringLiteral l fs q = refl
quiet-node ImportAttribute l fs q = refl
quiet-node ExportSpecifier l fs q = refl
quiet-node _ l fs q = absurd (cc q)

quiet-inside : (k : AstType) (l : Label) (fs : Fields) → is_quiet k ≡ true → told_in (slots k l.flags (has_value k fs) (named_label k fs)) fs ≡ true → fields_pass (λ i. is_quiet_tree) fs ≡ true
quiet-inside Identifier l fs q h = h
quiet-inside PrivateIdentifier l fs q h = h
quiet-inside NumericLiteral l fs q h = h
quiet-inside BigIntLiteral l fs q h = h
quiet-inside StringLiteral l fs q h = h
quiet-inside ImportAttribute l fs q h = h
quiet-inside ExportSpecifier l fs q h = h
quiet-inside _ l fs q h = absurd (cc q)

mutual
  quiet-tree : (t : Tree) → is_quiet_tree t ≡ true → Fine t → All Told t → all_nodes meant_node t ≡ true
  quiet-tree (node k l fs) q fine told =
      let s = standing k l fs fine in
      and_from (meant_node k l fs) (all_in_fields meant_node fs) (quiet-node k l fs q) (quiet-fields fs (quiet-inside k l fs q (told.0 s.class)) s.below told.1)

  quiet-fields : (fs : Fields) → fields_pass (λ i. is_quiet_tree) fs ≡ true → all_in_fields stands fs ≡ true → AllIn Told fs → all_in_fields meant_node fs ≡ true
  quiet-fields done q fine told = refl
  quiet-fields (f then fs) q fine told =
      let a = and_parts (field_passes is_quiet_tree f) (fields_pass (λ i. is_quiet_tree) fs) q in
      let b = and_parts (all_in_field stands f) (all_in_fields stands fs) fine in
      and_from (all_in_field meant_node f) (all_in_fields meant_node fs) (quiet-field f a.0 b.0 told.0) (quiet-fields fs a.1 b.1 told.1)

  quiet-field : (f : Field) → field_passes is_quiet_tree f ≡ true → all_in_field stands f ≡ true → AllBy Told f → all_in_field meant_node f ≡ true
  quiet-field missing q fine told = refl
  quiet-field (one t) q fine told = quiet-tree t q fine told
  quiet-field (many ts) q fine told = quiet-trees ts q fine told
  quiet-field (statements ts) q fine told = quiet-trees ts q fine told

  quiet-trees : (ts : Trees) → trees_pass is_quiet_tree ts ≡ true → all_in_trees stands ts ≡ true → AllAmong Told ts → all_in_trees meant_node ts ≡ true
  quiet-trees empty q fine told = refl
  quiet-trees (t before ts) q fine told =
      let a = and_parts (is_quiet_tree t) (trees_pass is_quiet_tree ts) q in
      let b = and_parts (all_nodes stands t) (all_in_trees stands ts) fine in
      and_from (all_nodes meant_node t) (all_in_trees meant_node ts) (quiet-tree t a.0 b.0 told.0) (quiet-trees ts a.1 b.1 told.1)

-- WHAT IS LOOKED AT means something where it stands

meant-so : (k : AstType) (l : Label) (fs : Fields) → (is_further_kind k ≡ true → is_meant_operand (node k l fs) ≡ true) → meant_node k l fs ≡ true
meant-so k l fs h = at (is_other k fs) (is_further_kind k) (is_meant_operand (node k l fs)) h
  where
    at : (a b c : Bool) → (b ≡ true → c ≡ true) → (not (a && b) || c) ≡ true
    at a true c h = or_right (not (a && true)) c (h refl)
    at true false c h = refl
    at false false c h = refl

told-first : (s : Slot) (f : Field) (fs : Fields) → told_all s (f then fs) ≡ true → (told_at s f ≡ true) × (told_all s fs ≡ true)
told-first s f fs h = at (is_passed s) (field_passes is_quiet_tree f) (fields_pass (λ i. is_quiet_tree) fs) h
  where
    at : (a b c : Bool) → (not a || (b && c)) ≡ true → ((not a || b) ≡ true) × ((not a || c) ≡ true)
    at true b c h = and_parts b c h
    at false b c h = (refl, refl)

mutual
  tree-meant : (c : Spot) (ls : List Text) (x : Text) (t : Tree) → Fine t → All Told t → is_meant_at no_helpers c ls x t ≡ true → all_nodes meant_node t ≡ true
  tree-meant c ls x (node k l fs) fine told h =
      let v = has_value k fs in
      let ns = named_label k fs in
      let s = standing k l fs fine in
      let p = and_parts (serves (nature k) c.role) _ h in
      let q = and_parts (is_said no_helpers c k l.texts l.flags v (names_of_all (own_names k fs)) ns x) _ p.1 in
      and_from (meant_node k l fs) (all_in_fields meant_node fs) (meant-so k l fs (λ e. and_from (is_further_kind k) _ e (further-meant no_helpers c ls x k l fs e fine h)))
      (fields-meant (slots k l.flags v ns) (spots c k l.texts (own_use k fs) v ns ls) (labels_in k ns ls) (word_in k l.texts) fs s.below told.1 (told.0 s.class) q.1)

  fields-meant : (ss : Slots) (at : ℕ → Spot) (ls : List Text) (x : Text) (fs : Fields) → all_in_fields stands fs ≡ true → AllIn Told fs → told_in ss fs ≡ true → are_meant no_helpers ss at ls x fs ≡ true → all_in_fields meant_node fs ≡ true
  fields-meant no_slot at ls x done fine told q h = refl
  fields-meant no_slot at ls x (f then fs) fine told q h = absurd (cc h)
  fields-meant (slot s ss) at ls x done fine told q h = absurd (cc h)
  fields-meant (slot s ss) at ls x (f then fs) fine told q h =
      let a = and_parts (is_meant_field no_helpers s (at zero) ls x f) (are_meant no_helpers ss (λ i. at (suc i)) ls x fs) h in
      let b = and_parts (all_in_field stands f) (all_in_fields stands fs) fine in
      let d = and_parts (told_at s f) (told_in ss fs) q in
      and_from (all_in_field meant_node f) (all_in_fields meant_node fs) (field-meant s (at zero) ls x f b.0 told.0 d.0 a.0) (fields-meant ss (λ i. at (suc i)) ls x fs b.1 told.1 d.1 a.1)
  fields-meant (repeated s) at ls x done fine told q h = refl
  fields-meant (repeated s) at ls x (f then fs) fine told q h =
      let a = and_parts (is_meant_field no_helpers s (at zero) ls x f) (are_meant no_helpers (repeated s) (λ i. at (suc i)) ls x fs) h in
      let b = and_parts (all_in_field stands f) (all_in_fields stands fs) fine in
      let d = told-first s f fs q in
      and_from (all_in_field meant_node f) (all_in_fields meant_node fs) (field-meant s (at zero) ls x f b.0 told.0 d.0 a.0) (fields-meant (repeated s) (λ i. at (suc i)) ls x fs b.1 told.1 d.1 a.1)

  field-meant : (s : Slot) (c : Spot) (ls : List Text) (x : Text) (f : Field) → all_in_field stands f ≡ true → AllBy Told f → told_at s f ≡ true → is_meant_field no_helpers s c ls x f ≡ true → all_in_field meant_node f ≡ true
  field-meant required c ls x (one t) fine told q h = tree-meant c ls x t fine told h
  field-meant optional c ls x missing fine told q h = refl
  field-meant optional c ls x (one t) fine told q h = tree-meant c ls x t fine told h
  field-meant absent c ls x missing fine told q h = refl
  field-meant listed c ls x (many ts) fine told q h = trees-meant c ls x ts fine told h
  field-meant listed c ls x (statements ts) fine told q h = trees-meant c ls x ts fine told h
  field-meant nonempty c ls x (many (t before ts)) fine told q h = trees-meant c ls x (t before ts) fine told h
  field-meant a_key c ls x f fine told q h = quiet-field f q fine told
  field-meant passed c ls x f fine told q h = quiet-field f q fine told
  field-meant (labelled_by ns) c ls x f fine told q h = quiet-field f q fine told
  field-meant _ c ls x _ fine told q h = absurd (cc h)

  trees-meant : (c : Spot) (ls : List Text) (x : Text) (ts : Trees) → all_in_trees stands ts ≡ true → AllAmong Told ts → all_meant no_helpers c ls x ts ≡ true → all_in_trees meant_node ts ≡ true
  trees-meant c ls x empty fine told h = refl
  trees-meant c ls x (t before ts) fine told h =
      let a = and_parts (is_meant_at no_helpers c ls x t) (all_meant no_helpers c ls x ts) h in
      let b = and_parts (all_nodes stands t) (all_in_trees stands ts) fine in
      and_from (all_nodes meant_node t) (all_in_trees meant_node ts) (tree-meant c ls x t b.0 told.0 a.0) (trees-meant c ls x ts b.1 told.1 a.1)

-- PROGRAMS

pub nodes-meant : (p : Tree) → has_form s-Program p ≡ true → Fine p → is_meant no_helpers p ≡ true → all_nodes meant_node p ≡ true
nodes-meant p form fine h = tree-meant (as_role a_value false) [] [] p fine (form-told s-Program p form) h
