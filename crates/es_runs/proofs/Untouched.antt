-- Where a row acts no taken name stands, and no steady name is a target.
use Rattle.std.proofs.Common.{◌≡◌, ℕ, zero, suc, refl, subst, List, [], ◌∷◌}
use Rattle.std.specs.Prelude.{Bool, true, false, bytes_eq, if◌then◌else◌}
use Rattle.es_tree.specs.Words.{Text}
use Rattle.es_tree.specs.Core.{is_core_node}
use Rattle.es_tree.specs.Fresh.{is_among}
use Rattle.es_tree.specs.Names.{first_text, flag_at, names_if, names_in_fields, names_in_field, names_in_trees, own_name, is_name_place, is_reexport}
use Rattle.es_tree.specs.Scopes.{is_written, target_names, written_by, writes}
use Rattle.es_tree.specs.Tree.{Tree, node, Label, Fields, done, ◌then◌, Field, missing, one, many, statements, Trees, empty, ◌before◌, kind_of}
use Rattle.es_tree.specs.Walks.{all_nodes, all_in_fields, all_in_field, all_in_trees, any_node, any_in_fields, any_in_field, any_in_trees}
use Rattle.es_tree.specs.declared.ast_type.AstType.{AstType}
use Rattle.es_tree.specs.declared.ast_type.AstType.TheVariants.{Program, Identifier, VariableDeclaration, VariableDeclarator, UnaryExpression, UpdateExpression, BinaryExpression, AssignmentExpression, MemberExpression, CallExpression, ChainExpression, ParenthesizedExpression, ObjectProperty, PatternProperty, TargetProperty}
use Rattle.es_runs.specs.Alike.{Level, Need, needs, member_needs, unary_need, binary_needs, callee_then_values, key_then_value, the_callee, bad_names, is_bad, touches, touches_fields, touches_field, touches_nodes}
use Rattle.es_runs.specs.Alike.Level.{no_evaluation, value_alone, whole_reference, a_callee, a_target, an_operand_of_typeof}
use Rattle.es_runs.specs.Core.{UnaryClass, unary_class, flag, flag_after}
use Rattle.es_runs.specs.Core.UnaryClass.{typeof_class, delete_class, void_class}
use Rattle.es_runs.specs.Standing.{begins_with_one, field_stands, fields_stand, is_formed, is_link, is_placed, is_single, may_stand, trees_stand, undeclaring}
use Rattle.es_runs.proofs.Named.{and_left, and_right, or_both, or_first, or_second, among_first, among_second, core_exports, core_quiet, names_below}
use Rattle.es_runs.proofs.RowFacts.{is_row_kind}
use Rattle.es_runs.proofs.Temporary.{bytes_eq-self}
use Rattle.es_runs.proofs.Undeclaring.{is_part, is_expression, stands_part, row_part}

module _ (hidden steady : Text → Bool) where
  -- no hidden name is among these
  abbrev Absent : List Text → Type 0
  Absent names = (y : Text) → hidden y ≡ true → is_among names y ≡ false

  -- no steady name is among these
  abbrev Unsteady : List Text → Type 0
  Unsteady names = (y : Text) → steady y ≡ true → is_among names y ≡ false

  -- NAMES

  alone : (these : Text → Bool) (x : Text) (xs : List Text) → ((y : Text) → these y ≡ true → is_among (x ∷ xs) y ≡ false) → these x ≡ false
  alone these x xs h = at (these x) refl
    where
      at : (b : Bool) → these x ≡ b → b ≡ false
      at false e = refl
      at true e = absurd (cc (bytes_eq-self x, or_first (bytes_eq x x) (is_among xs x) (h x e)))

  level_untouched : (level : Level) (x : Text) → hidden x ≡ false → (level ≡ a_target → steady x ≡ false) → bad_names hidden steady level x ≡ false
  level_untouched no_evaluation x h g = refl
  level_untouched value_alone x h g = h
  level_untouched an_operand_of_typeof x h g = h
  level_untouched whole_reference x h g = h
  level_untouched a_callee x h g = h
  level_untouched a_target x h g = or_both (hidden x) (steady x) h (g refl)

  own_untouched : (level : Level) (counts : Bool) (k : AstType) (l : Label) (fs : Fields) → Absent (own_name counts k l) → (level ≡ a_target → Unsteady (target_names (node k l fs))) → (counts ≡ false → level ≡ no_evaluation) → is_bad (bad_names hidden steady) level k l.texts ≡ false
  own_untouched level true Identifier l fs h g quiet = level_untouched level (first_text l.texts) (alone hidden (first_text l.texts) [] h) (λ e. alone steady (first_text l.texts) [] (g e))
  own_untouched level false Identifier l fs h g quiet = rw (quiet refl)
  own_untouched level counts _ l fs h g quiet = refl

  -- TARGETS

  -- what stands here may be written to
  abbrev FieldTarget : Field → Type 0
  FieldTarget missing = Unit {0}
  FieldTarget (one t) = Unsteady (target_names t)
  FieldTarget (many ts) = ⊥
  FieldTarget (statements ts) = ⊥

  abbrev FieldsTargets : (ℕ → Need) → Fields → Type 0
  FieldsTargets c done = Unit {0}
  FieldsTargets c (f then fs) = ((c zero).level ≡ a_target → FieldTarget f) × FieldsTargets (λ i. c (suc i)) fs

  no_targets : (c : ℕ → Need) (fs : Fields) → ((i : ℕ) → (c i).level ≡ a_target → ⊥) → FieldsTargets c fs
  no_targets c done h = tt
  no_targets c (f then fs) h = (λ e. absurd (h zero e), no_targets (λ i. c (suc i)) fs (λ i. h (suc i)))

  needs_value : (i : ℕ) (n : Need) → (callee_then_values n (suc i)).level ≡ a_target → ⊥
  needs_value i n e = absurd (cc e)

  unary_level : (form : Bool) (c : UnaryClass) → (unary_need form c).level ≡ a_target → ⊥
  unary_level form typeof_class e = absurd (cc e)
  unary_level form delete_class e = absurd (cc e)
  unary_level form void_class e = absurd (cc e)
  unary_level form _ e = absurd (cc e)

  binary_level : (op : Text) (i : ℕ) → (binary_needs op i).level ≡ a_target → ⊥
  binary_level op zero e = absurd (cc e)
  binary_level op (suc i) e = absurd (cc e)

  member_level : (form computed marked : Bool) (i : ℕ) → (member_needs form computed marked i).level ≡ a_target → ⊥
  member_level form computed true zero e = absurd (cc e)
  member_level form computed false zero e = absurd (cc e)
  member_level form true marked (suc i) e = absurd (cc e)
  member_level form false marked (suc i) e = absurd (cc e)

  call_level : (optional : Bool) (i : ℕ) → (callee_then_values (the_callee optional) i).level ≡ a_target → ⊥
  call_level true zero e = absurd (cc e)
  call_level false zero e = absurd (cc e)
  call_level optional (suc i) e = absurd (cc e)

  key_level : (computed : Bool) (i : ℕ) → (key_then_value computed i).level ≡ a_target → ⊥
  key_level true zero e = absurd (cc e)
  key_level false zero e = absurd (cc e)
  key_level computed (suc i) e = absurd (cc e)

  link_targets : (t : Tree) → is_link (kind_of t) ≡ true → Unsteady (target_names t)
  link_targets (node MemberExpression l fs) e y s = refl
  link_targets (node CallExpression l fs) e y s = refl
  link_targets (node _ l fs) e y s = absurd (cc e)

  -- a field alone
  single_target : (c : ℕ → Need) (fs : Fields) → is_single fs ≡ true → ((t : Tree) → fs ≡ (one t then done) → (c zero).level ≡ a_target → Unsteady (target_names t)) → FieldsTargets c fs
  single_target c (one t then done) e h = (h t refl, tt)
  single_target c done e h = absurd (cc e)
  single_target c (missing then fs) e h = absurd (cc e)
  single_target c (many ts then fs) e h = absurd (cc e)
  single_target c (statements ts then fs) e h = absurd (cc e)
  single_target c (one t then (f then fs)) e h = absurd (cc e)

  first_target : (n : Need) (fs : Fields) → begins_with_one fs ≡ true → Unsteady (written_by AssignmentExpression fs) → FieldsTargets (callee_then_values n) fs
  first_target n (one t then fs) e h = (λ d. h, no_targets (λ i. callee_then_values n (suc i)) fs (λ i. needs_value i n))
  first_target n done e h = absurd (cc e)
  first_target n (missing then fs) e h = absurd (cc e)
  first_target n (many ts then fs) e h = absurd (cc e)
  first_target n (statements ts then fs) e h = absurd (cc e)

  chain_link : (t : Tree) → fields_stand ChainExpression (one t then done) ≡ true → is_link (kind_of t) ≡ true
  chain_link t h = and_right (is_placed ChainExpression (kind_of t)) (is_link (kind_of t)) (and_left (may_stand ChainExpression (kind_of t)) true h)

  -- of the targets among the fields of a node none is a steady name
  targets : (n : Need) (k : AstType) (l : Label) (fs : Fields) → is_part k ≡ true → fields_stand k fs ≡ true → is_formed k fs ≡ true → Unsteady (written_by k fs) → (n.level ≡ a_target → Unsteady (target_names (node k l fs))) → FieldsTargets (needs n k l.texts l.flags) fs
  targets n UnaryExpression l fs part stand formed written target = no_targets _ fs (λ i. unary_level n.form (unary_class (first_text l.texts)))
  targets n UpdateExpression l fs part stand formed written target = single_target _ fs formed (λ t e d. subst (λ gs. Unsteady (written_by UpdateExpression gs)) e written)
  targets n BinaryExpression l fs part stand formed written target = no_targets _ fs (binary_level (first_text l.texts))
  targets n AssignmentExpression l fs part stand formed written target = first_target _ fs formed written
  targets n MemberExpression l fs part stand formed written target = no_targets _ fs (member_level n.form (flag l.flags) (flag_after l.flags))
  targets n CallExpression l fs part stand formed written target = no_targets _ fs (call_level (flag l.flags))
  targets n ChainExpression l fs part stand formed written target = single_target _ fs formed (λ t e d. link_targets t (chain_link t (subst (λ gs. fields_stand ChainExpression gs ≡ true) e stand)))
  targets n ParenthesizedExpression l fs part stand formed written target = single_target _ fs formed (λ t e d. subst (λ gs. Unsteady (target_names (node ParenthesizedExpression l gs))) e (target d))
  targets n VariableDeclarator l fs part stand formed written target = absurd (cc part)
  targets n VariableDeclaration l fs part stand formed written target = absurd (cc part)
  targets n ObjectProperty l fs part stand formed written target = no_targets _ fs (key_level (flag_at 2 l.flags))
  targets n PatternProperty l fs part stand formed written target = no_targets _ fs (key_level (flag_at 1 l.flags))
  targets n TargetProperty l fs part stand formed written target = no_targets _ fs (key_level (flag_at 1 l.flags))
  targets n _ l fs part stand formed written target = no_targets _ fs (λ i e. absurd (cc e))

  part_expression : (k : AstType) → is_part k ≡ true → is_expression k ≡ true
  part_expression Program e = absurd (cc e)
  part_expression VariableDeclaration e = absurd (cc e)
  part_expression _ e = refl

  -- THE WHOLE

  mutual
    node_untouched : (t : Tree) (n : Need) (counts : Bool) → is_part (kind_of t) ≡ true → all_nodes is_core_node t ≡ true → all_nodes undeclaring t ≡ true → Absent (names_if counts t) → ((y : Text) → steady y ≡ true → any_node (writes y) t ≡ false) → (n.level ≡ a_target → Unsteady (target_names t)) → (counts ≡ false → n.level ≡ no_evaluation) → touches (bad_names hidden steady) n t ≡ false
    node_untouched (node k l fs) n counts part core placed names written target quiet =
        let own = and_left (is_core_node k l fs) (all_in_fields is_core_node fs) core in
        let here = and_left (undeclaring k l fs) (all_in_fields undeclaring fs) placed in
        let stand = and_left (fields_stand k fs) (is_formed k fs) here in
        let inner : (y : Text) → hidden y ≡ true → is_among (names_in_fields (is_name_place k l) fs) y ≡ false = λ y e. rw (names_below k l fs (is_reexport k fs) (core_exports k l fs fs own)) at (among_second (own_name counts k l) (if is_reexport k fs then [] else names_in_fields (is_name_place k l) fs) y (names y e)) in
        or_both (is_bad (bad_names hidden steady) n.level k l.texts) (touches_fields (bad_names hidden steady) (needs n k l.texts l.flags) fs)
        (own_untouched n.level counts k l fs (λ y e. among_first (own_name counts k l) (if is_reexport k fs then [] else names_in_fields (is_name_place k l) fs) y (names y e)) target quiet)
        (fields_untouched k fs (needs n k l.texts l.flags) (is_name_place k l) (part_expression k part) stand (and_right (is_core_node k l fs) (all_in_fields is_core_node fs) core) (and_right (undeclaring k l fs) (all_in_fields undeclaring fs) placed) inner
        (λ y e. or_second (writes y k l fs) (any_in_fields (writes y) fs) (written y e))
        (targets n k l fs part stand (and_right (fields_stand k fs) (is_formed k fs) here) (λ y e. or_first (writes y k l fs) (any_in_fields (writes y) fs) (written y e)) target)
        (λ i. core_quiet k l fs n i own))

    fields_untouched : (k : AstType) (fs : Fields) (c : ℕ → Need) (p : ℕ → Bool) → is_expression k ≡ true → fields_stand k fs ≡ true → all_in_fields is_core_node fs ≡ true → all_in_fields undeclaring fs ≡ true → Absent (names_in_fields p fs) → ((y : Text) → steady y ≡ true → any_in_fields (writes y) fs ≡ false) → FieldsTargets c fs → ((i : ℕ) → p i ≡ false → (c i).level ≡ no_evaluation) → touches_fields (bad_names hidden steady) c fs ≡ false
    fields_untouched k done c p kind stand core placed names written target quiet = refl
    fields_untouched k (f then fs) c p kind stand core placed names written target quiet =
        or_both (touches_field (bad_names hidden steady) (c zero) f) (touches_fields (bad_names hidden steady) (λ i. c (suc i)) fs)
        (field_untouched k f (c zero) (p zero) kind (and_left (field_stands k f) (fields_stand k fs) stand) (and_left (all_in_field is_core_node f) (all_in_fields is_core_node fs) core) (and_left (all_in_field undeclaring f) (all_in_fields undeclaring fs) placed)
        (λ y e. among_first (names_in_field (p zero) f) (names_in_fields (λ i. p (suc i)) fs) y (names y e)) (λ y e. or_first (any_in_field (writes y) f) (any_in_fields (writes y) fs) (written y e)) target.0 (quiet zero))
        (fields_untouched k fs (λ i. c (suc i)) (λ i. p (suc i)) kind (and_right (field_stands k f) (fields_stand k fs) stand) (and_right (all_in_field is_core_node f) (all_in_fields is_core_node fs) core) (and_right (all_in_field undeclaring f) (all_in_fields undeclaring fs) placed)
        (λ y e. among_second (names_in_field (p zero) f) (names_in_fields (λ i. p (suc i)) fs) y (names y e)) (λ y e. or_second (any_in_field (writes y) f) (any_in_fields (writes y) fs) (written y e)) target.1 (λ i. quiet (suc i)))

    field_untouched : (k : AstType) (f : Field) (n : Need) (counts : Bool) → is_expression k ≡ true → field_stands k f ≡ true → all_in_field is_core_node f ≡ true → all_in_field undeclaring f ≡ true → Absent (names_in_field counts f) → ((y : Text) → steady y ≡ true → any_in_field (writes y) f ≡ false) → (n.level ≡ a_target → FieldTarget f) → (counts ≡ false → n.level ≡ no_evaluation) → touches_field (bad_names hidden steady) n f ≡ false
    field_untouched k missing n counts kind stand core placed names written target quiet = refl
    field_untouched k (one t) n counts kind stand core placed names written target quiet = node_untouched t n counts (stands_part k (kind_of t) kind stand) core placed names written target quiet
    field_untouched k (many ts) n counts kind stand core placed names written target quiet = trees_untouched k ts n kind stand core placed names written target
    field_untouched k (statements ts) n counts kind stand core placed names written target quiet = trees_untouched k ts n kind stand core placed names written target

    trees_untouched : (k : AstType) (ts : Trees) (n : Need) → is_expression k ≡ true → trees_stand k ts ≡ true → all_in_trees is_core_node ts ≡ true → all_in_trees undeclaring ts ≡ true → Absent (names_in_trees ts) → ((y : Text) → steady y ≡ true → any_in_trees (writes y) ts ≡ false) → (n.level ≡ a_target → ⊥) → touches_nodes (bad_names hidden steady) n ts ≡ false
    trees_untouched k empty n kind stand core placed names written target = refl
    trees_untouched k (t before ts) n kind stand core placed names written target =
        or_both (touches (bad_names hidden steady) n t) (touches_nodes (bad_names hidden steady) n ts)
        (node_untouched t n true (stands_part k (kind_of t) kind (and_left (may_stand k (kind_of t)) (trees_stand k ts) stand)) (and_left (all_nodes is_core_node t) (all_in_trees is_core_node ts) core) (and_left (all_nodes undeclaring t) (all_in_trees undeclaring ts) placed)
        (λ y e. among_first (names_if true t) (names_in_trees ts) y (names y e)) (λ y e. or_first (any_node (writes y) t) (any_in_trees (writes y) ts) (written y e)) (λ e. absurd (target e)) (λ e. absurd (cc e)))
        (trees_untouched k ts n kind (and_right (may_stand k (kind_of t)) (trees_stand k ts) stand) (and_right (all_nodes is_core_node t) (all_in_trees is_core_node ts) core) (and_right (all_nodes undeclaring t) (all_in_trees undeclaring ts) placed)
        (λ y e. among_second (names_if true t) (names_in_trees ts) y (names y e)) (λ y e. or_second (any_node (writes y) t) (any_in_trees (writes y) ts) (written y e)) target)

  row_targets : (t : Tree) → is_row_kind (kind_of t) ≡ true → Unsteady (target_names t)
  row_targets (node Identifier l fs) e y s = absurd (cc e)
  row_targets (node ParenthesizedExpression l fs) e y s = absurd (cc e)
  row_targets (node _ l fs) e y s = refl

  -- a node on which a row acts
  pub untouched : (n : Need) (a : Tree) → is_row_kind (kind_of a) ≡ true → all_nodes is_core_node a ≡ true → all_nodes undeclaring a ≡ true → ((y : Text) → hidden y ≡ true → is_among (names_if true a) y ≡ false) → ((y : Text) → steady y ≡ true → is_written y a ≡ false) → touches (bad_names hidden steady) n a ≡ false
  untouched n a kind core placed names written = node_untouched a n true (row_part (kind_of a) kind) core placed names written (λ e. row_targets a kind) (λ e. absurd (cc e))
