-- A step of a row keeps the static rules of the tree at its place, apart from its names.
use Rattle.std.proofs.Common.{◌≡◌, ℕ, suc, refl, sym, ap, ◌∙◌}
use Rattle.std.specs.Prelude.{Bool, true, false, ◌&&◌, ◌||◌, not, bytes_eq, codes, is_some, Some}
use Rattle.std.specs.List.{list_any}
use Rattle.es_tree.specs.Children.{child_at}
use Rattle.es_tree.specs.CoreStaticRules.{place_in, is_bad_target, is_simple_target, is_optional, has_optional, has_optional_in, is_empty_chain, is_stray_optional, is_private_name, is_private_member, is_kept, is_kept_within, is_bad_delete, is_name, needs_value, is_missing_init}
use Rattle.es_tree.specs.HasForm.{same_type}
use Rattle.es_tree.specs.Names.{first_text}
use Rattle.es_tree.specs.Parens.{without_parens}
use Rattle.es_tree.specs.Table.{own_kinds}
use Rattle.es_tree.specs.Tree.{Tree, node, Label, Fields, done, ◌then◌, Field, missing, one, many, statements, Trees, kind_of}
use Rattle.es_tree.specs.declared.ast_type.AstType.{AstType}
use Rattle.es_tree.specs.declared.ast_type.AstType.TheVariants.{AssignmentExpression, BinaryExpression, CallExpression, ChainExpression, Identifier, LogicalExpression, MemberExpression, ParenthesizedExpression, PrivateIdentifier, UnaryExpression, VariableDeclarator}
use Rattle.es_tree.specs.declared.place.Place.{Place}
use Rattle.es_tree.specs.declared.place.Place.TheVariants.{Spine, Target, Declarator}
use Rattle.es_runs.specs.Alike.{Need}
use Rattle.es_runs.specs.Rules.{OnePlace, OneField, InField, OneNode}
use Rattle.es_runs.specs.Rules.OnePlace.{this_place, below}
use Rattle.es_runs.specs.Rules.OneField.{first_field, later_field}
use Rattle.es_runs.specs.Rules.InField.{in_one, in_many, in_statements}
use Rattle.es_runs.specs.Rules.OneNode.{first_node, later_node}
use Rattle.es_runs.proofs.RowFacts.{is_row_kind}
use Rattle.es_runs.proofs.RowKinds.{is_left_kind, RowKinds}
use Rattle.es_runs.proofs.StaticKeeps.{Own, Keeps, KeepsFields, KeepsField, KeepsTrees}

-- WHAT ROWS ACT ON AND LEAVE

acted_simple : (a : Tree) → is_row_kind (kind_of a) ≡ true → is_simple_target (kind_of (without_parens a)) ≡ false
acted_simple (node LogicalExpression l fs) h = refl
acted_simple (node BinaryExpression l fs) h = refl
acted_simple (node AssignmentExpression l fs) h = refl
acted_simple (node ChainExpression l fs) h = refl
acted_simple (node UnaryExpression l fs) h = refl
acted_simple (node _ l fs) h = absurd (cc h)

acted_optional : (a : Tree) → is_row_kind (kind_of a) ≡ true → has_optional a ≡ false
acted_optional (node MemberExpression l fs) h = absurd (cc h)
acted_optional (node CallExpression l fs) h = absurd (cc h)
acted_optional (node _ l fs) h = refl

acted_name : (a : Tree) → is_row_kind (kind_of a) ≡ true → is_name (Some a) ≡ false
acted_name (node Identifier l fs) h = absurd (cc h)
acted_name (node _ l fs) h = refl

left_name : (b : Tree) → is_left_kind (kind_of b) ≡ true → is_name (Some b) ≡ false
left_name (node Identifier l fs) h = absurd (cc h)
left_name (node _ l fs) h = refl

left_kept : (b : Tree) → is_left_kind (kind_of b) ≡ true → is_kept (without_parens b) ≡ false
left_kept (node Identifier l fs) h = absurd (cc h)
left_kept (node MemberExpression l fs) h = absurd (cc h)
left_kept (node ChainExpression l fs) h = absurd (cc h)
left_kept (node ParenthesizedExpression l fs) h = absurd (cc h)
left_kept (node _ l fs) h = refl

left_private : (b : Tree) → is_left_kind (kind_of b) ≡ true → is_private_name (Some b) ≡ false
left_private (node PrivateIdentifier l fs) h = absurd (cc h)
left_private (node _ l fs) h = refl

left_member : (b : Tree) → is_left_kind (kind_of b) ≡ true → is_private_member (Some b) ≡ false
left_member (node MemberExpression l fs) h = absurd (cc h)
left_member (node _ l fs) h = refl

-- the kind below a pair of parentheses around a first field
abbrev simple_first : Fields → Bool
simple_first (one t then fs) = is_simple_target (kind_of (without_parens t))
simple_first _ = false

simple_inside : (l : Label) (fs : Fields) → is_simple_target (kind_of (without_parens (node ParenthesizedExpression l fs))) ≡ simple_first fs
simple_inside l done = refl
simple_inside l (missing then fs) = refl
simple_inside l (one t then fs) = refl
simple_inside l (many ts then fs) = refl
simple_inside l (statements ts then fs) = refl

abbrev kept_first : Fields → Bool
kept_first (one t then fs) = is_kept (without_parens t)
kept_first _ = false

kept_inside : (l : Label) (fs : Fields) → is_kept (without_parens (node ParenthesizedExpression l fs)) ≡ kept_first fs
kept_inside l done = refl
kept_inside l (missing then fs) = refl
kept_inside l (one t then fs) = refl
kept_inside l (many ts then fs) = refl
kept_inside l (statements ts then fs) = refl

or_kept : (a b c : Bool) → (b ≡ true → c ≡ true) → (a || b) ≡ true → (a || c) ≡ true
or_kept true b c h e = refl
or_kept false b c h e = h e

not_or_kept : (a b c : Bool) → (b ≡ true → c ≡ true) → not (a || b) ≡ false → not (a || c) ≡ false
not_or_kept true b c h e = refl
not_or_kept false true c h e = rw (h refl) refl
not_or_kept false false c h e = absurd (cc e)

not_kept : (b c : Bool) → (b ≡ true → c ≡ true) → not b ≡ false → not c ≡ false
not_kept true c h e = rw (h refl) refl
not_kept false c h e = absurd (cc e)

and_kept : (a b c : Bool) → (b ≡ false → c ≡ false) → (a && b) ≡ false → (a && c) ≡ false
and_kept true b c h e = h e
and_kept false b c h e = refl

module _ (R : Need → Tree → Tree → Type 0) (kinds : (n : Need) (a b : Tree) → R n a b → RowKinds a b) where
  -- TARGETS

  mutual
    simple_kept : {n : Need} {t u : Tree} → OnePlace R n t u → is_simple_target (kind_of (without_parens t)) ≡ true → is_simple_target (kind_of (without_parens u)) ≡ true
    simple_kept (this_place {n = n} {a = a} {b = b} r) h = absurd (cc (acted_simple a (kinds n a b r).acted, h))
    simple_kept (below {k = ParenthesizedExpression} {l = l} {fs = fs} {gs = gs} r) h = simple_inside l gs ∙ simple_first_kept r (sym (simple_inside l fs) ∙ h)
    simple_kept (below {k = _} r) h = h

    simple_first_kept : {c : ℕ → Need} {fs gs : Fields} → OneField R c fs gs → simple_first fs ≡ true → simple_first gs ≡ true
    simple_first_kept (first_field (in_one r)) h = simple_kept r h
    simple_first_kept (first_field (in_many r)) h = absurd (cc h)
    simple_first_kept (first_field (in_statements r)) h = absurd (cc h)
    simple_first_kept (later_field {f = one t} r) h = h
    simple_first_kept (later_field {f = missing} r) h = absurd (cc h)
    simple_first_kept (later_field {f = many ts} r) h = absurd (cc h)
    simple_first_kept (later_field {f = statements ts} r) h = absurd (cc h)

  target_kept : (p : Place) (k : AstType) (l : Label) {n : Need} {fs gs : Fields} → OnePlace R n (node k l fs) (node k l gs) → is_bad_target p (node k l fs) ≡ false → is_bad_target p (node k l gs) ≡ false
  target_kept (Target s) k l {fs = fs} {gs = gs} r h =
      not_or_kept (list_any (same_type k) (own_kinds s)) (is_simple_target (kind_of (without_parens (node k l fs)))) (is_simple_target (kind_of (without_parens (node k l gs)))) (simple_kept r) h
  target_kept _ k l r h = refl

  -- CHAINS

  mutual
    optional_kept : {n : Need} {t u : Tree} → OnePlace R n t u → has_optional t ≡ true → has_optional u ≡ true
    optional_kept (this_place {n = n} {a = a} {b = b} r) h = absurd (cc (acted_optional a (kinds n a b r).acted, h))
    optional_kept (below {k = MemberExpression} {l = l} {fs = fs} {gs = gs} r) h = or_kept (is_optional MemberExpression l) (has_optional_in fs) (has_optional_in gs) (optional_in_kept r) h
    optional_kept (below {k = CallExpression} {l = l} {fs = fs} {gs = gs} r) h = or_kept (is_optional CallExpression l) (has_optional_in fs) (has_optional_in gs) (optional_in_kept r) h
    optional_kept (below {k = _} r) h = absurd (cc h)

    optional_in_kept : {c : ℕ → Need} {fs gs : Fields} → OneField R c fs gs → has_optional_in fs ≡ true → has_optional_in gs ≡ true
    optional_in_kept (first_field (in_one r)) h = optional_kept r h
    optional_in_kept (first_field (in_many r)) h = absurd (cc h)
    optional_in_kept (first_field (in_statements r)) h = absurd (cc h)
    optional_in_kept (later_field {f = one t} r) h = h
    optional_in_kept (later_field {f = missing} r) h = absurd (cc h)
    optional_in_kept (later_field {f = many ts} r) h = absurd (cc h)
    optional_in_kept (later_field {f = statements ts} r) h = absurd (cc h)

  chain_kept : (k : AstType) (l : Label) {c : ℕ → Need} {fs gs : Fields} → OneField R c fs gs → is_empty_chain (node k l fs) ≡ false → is_empty_chain (node k l gs) ≡ false
  chain_kept ChainExpression l {fs = fs} {gs = gs} r h = not_kept (has_optional_in fs) (has_optional_in gs) (optional_in_kept r) h
  chain_kept _ l r h = refl

  mark_same : (p : Place) (k : AstType) (l : Label) (fs gs : Fields) → is_stray_optional p (node k l fs) ≡ false → is_stray_optional p (node k l gs) ≡ false
  mark_same Spine k l fs gs h = refl
  mark_same _ k l fs gs h = h

  -- DELETE

  private_kept : {c : ℕ → Need} {fs gs : Fields} → OneField R c fs gs → is_private_name (child_at 0 fs) ≡ false → is_private_name (child_at 0 gs) ≡ false
  private_kept (first_field (in_one (this_place {n = n} {a = a} {b = b} r))) h = left_private b (kinds n a b r).left
  private_kept (first_field (in_one (below {k = PrivateIdentifier} r))) h = h
  private_kept (first_field (in_one (below {k = _} r))) h = refl
  private_kept (first_field (in_many r)) h = refl
  private_kept (first_field (in_statements r)) h = refl
  private_kept (later_field r) h = h

  key_kept : {c : ℕ → Need} {fs gs : Fields} → OneField R c fs gs → is_private_name (child_at 1 fs) ≡ false → is_private_name (child_at 1 gs) ≡ false
  key_kept (first_field r) h = h
  key_kept (later_field r) h = private_kept r h

  member_kept : {c : ℕ → Need} {fs gs : Fields} → OneField R c fs gs → is_private_member (child_at 0 fs) ≡ false → is_private_member (child_at 0 gs) ≡ false
  member_kept (first_field (in_one (this_place {n = n} {a = a} {b = b} r))) h = left_member b (kinds n a b r).left
  member_kept (first_field (in_one (below {k = MemberExpression} r))) h = key_kept r h
  member_kept (first_field (in_one (below {k = _} r))) h = refl
  member_kept (first_field (in_many r)) h = refl
  member_kept (first_field (in_statements r)) h = refl
  member_kept (later_field r) h = h

  mutual
    kept_kept : {n : Need} {t u : Tree} → OnePlace R n t u → is_kept (without_parens t) ≡ false → is_kept (without_parens u) ≡ false
    kept_kept (this_place {n = n} {a = a} {b = b} r) h = left_kept b (kinds n a b r).left
    kept_kept (below {k = ParenthesizedExpression} {l = l} {fs = fs} {gs = gs} r) h = kept_inside l gs ∙ kept_first_kept r (sym (kept_inside l fs) ∙ h)
    kept_kept (below {k = Identifier} r) h = h
    kept_kept (below {k = MemberExpression} r) h = key_kept r h
    kept_kept (below {k = ChainExpression} r) h = member_kept r h
    kept_kept (below {k = _} r) h = refl

    kept_first_kept : {c : ℕ → Need} {fs gs : Fields} → OneField R c fs gs → kept_first fs ≡ false → kept_first gs ≡ false
    kept_first_kept (first_field (in_one r)) h = kept_kept r h
    kept_first_kept (first_field (in_many r)) h = refl
    kept_first_kept (first_field (in_statements r)) h = refl
    kept_first_kept (later_field {f = one t} r) h = h
    kept_first_kept (later_field {f = missing} r) h = refl
    kept_first_kept (later_field {f = many ts} r) h = refl
    kept_first_kept (later_field {f = statements ts} r) h = refl

  within_kept : {c : ℕ → Need} {fs gs : Fields} → OneField R c fs gs → is_kept_within (child_at 0 fs) ≡ false → is_kept_within (child_at 0 gs) ≡ false
  within_kept (first_field (in_one r)) h = kept_kept r h
  within_kept (first_field (in_many r)) h = refl
  within_kept (first_field (in_statements r)) h = refl
  within_kept (later_field r) h = h

  deleted_kept : (k : AstType) (l : Label) {c : ℕ → Need} {fs gs : Fields} → OneField R c fs gs → is_bad_delete (node k l fs) ≡ false → is_bad_delete (node k l gs) ≡ false
  deleted_kept UnaryExpression l {fs = fs} {gs = gs} r h = and_kept (bytes_eq (first_text l.texts) (codes "delete")) (is_kept_within (child_at 0 fs)) (is_kept_within (child_at 0 gs)) (within_kept r) h
  deleted_kept _ l r h = refl

  -- DECLARATORS

  name_same : {c : ℕ → Need} {fs gs : Fields} → OneField R c fs gs → is_name (child_at 0 gs) ≡ is_name (child_at 0 fs)
  name_same (first_field (in_one (this_place {n = n} {a = a} {b = b} r))) = left_name b (kinds n a b r).left ∙ sym (acted_name a (kinds n a b r).acted)
  name_same (first_field (in_one (below {k = Identifier} r))) = refl
  name_same (first_field (in_one (below {k = _} r))) = refl
  name_same (first_field (in_many r)) = refl
  name_same (first_field (in_statements r)) = refl
  name_same (later_field r) = refl

  some_same : {c : ℕ → Need} {fs gs : Fields} → OneField R c fs gs → is_some (child_at 0 gs) ≡ is_some (child_at 0 fs)
  some_same (first_field (in_one r)) = refl
  some_same (first_field (in_many r)) = refl
  some_same (first_field (in_statements r)) = refl
  some_same (later_field r) = refl

  value_same : {c : ℕ → Need} {fs gs : Fields} → OneField R c fs gs → is_some (child_at 1 gs) ≡ is_some (child_at 1 fs)
  value_same (first_field r) = refl
  value_same (later_field r) = some_same r

  needs_same : (p : Place) {c : ℕ → Need} {fs gs : Fields} → OneField R c fs gs → needs_value p (child_at 0 gs) ≡ needs_value p (child_at 0 fs)
  needs_same (Declarator top lexical constant) r = ap (λ b. constant || not b) (name_same r)
  needs_same _ r = refl

  value_kept : (p : Place) (k : AstType) (l : Label) {c : ℕ → Need} {fs gs : Fields} → OneField R c fs gs → is_missing_init p (node k l fs) ≡ false → is_missing_init p (node k l gs) ≡ false
  value_kept p VariableDeclarator l r h = rw (needs_same p r, value_same r) h
  value_kept p _ l r h = refl

  -- ALL NODES

  own_kept : (p : Place) (k : AstType) (l : Label) {c : ℕ → Need} {n : Need} {fs gs : Fields} → OnePlace R n (node k l fs) (node k l gs) → OneField R c fs gs → Own p (node k l fs) → Own p (node k l gs)
  own_kept p k l {fs = fs} {gs = gs} q r h = record {
    target = target_kept p k l q h.target;
    chain = chain_kept k l r h.chain;
    mark = mark_same p k l fs gs h.mark;
    deleted = deleted_kept k l r h.deleted;
    value = value_kept p k l r h.value;
  }

  module _ (base : (n : Need) (a b : Tree) → R n a b → (p : Place) → Keeps p a → Keeps p b) where
    mutual
      pub step_keeps : (p : Place) {n : Need} {t u : Tree} → OnePlace R n t u → Keeps p t → Keeps p u
      step_keeps p (this_place {n = n} {a = a} {b = b} r) h = base n a b r p h
      step_keeps p (below {k = k} {l = l} r) h = (own_kept p k l (below r) r h.0, fields_keep p k l 0 r h.1)

      fields_keep : (p : Place) (k : AstType) (l : Label) (i : ℕ) {c : ℕ → Need} {fs gs : Fields} → OneField R c fs gs → KeepsFields p k l i fs → KeepsFields p k l i gs
      fields_keep p k l i (first_field r) h = (field_keeps (place_in p k l i) r h.0, h.1)
      fields_keep p k l i (later_field r) h = (h.0, fields_keep p k l (suc i) r h.1)

      field_keeps : (p : Place) {n : Need} {f g : Field} → InField R n f g → KeepsField p f → KeepsField p g
      field_keeps p (in_one r) h = step_keeps p r h
      field_keeps p (in_many r) h = trees_keep p r h
      field_keeps p (in_statements r) h = trees_keep p r h

      trees_keep : (p : Place) {n : Need} {ts us : Trees} → OneNode R n ts us → KeepsTrees p ts → KeepsTrees p us
      trees_keep p (first_node r) h = (step_keeps p r h.0, h.1)
      trees_keep p (later_node r) h = (h.0, trees_keep p r h.1)
