-- What is seen of trees: their sizes and loads, the bases of their names, and inert trees.
use Rattle.std.proofs.Common.{◌≡◌, ◌+◌, ◌||◌, ◌++◌, ℕ, suc, Bool, true, false, refl, ap, List, [], ◌∷◌, Option, Some, None}
use Rattle.std.specs.Prelude.{if◌then◌else◌, map, not}
use Rattle.std.proofs.lemmas.Bool.{or_parts}
use Rattle.es_tree.specs.Ancestors.{is_class}
use Rattle.es_tree.specs.Constructs.{any_kind, is_rest}
use Rattle.es_tree.specs.Fresh.{field_parts, first_parts, first_characters, joined, longest_base, node_base, or_ref, parts, second_parts, without_last_digits, without_underscores}
use Rattle.es_tree.specs.Order.{renumber, renumber_field, renumber_fields, renumber_trees}
use Rattle.es_tree.specs.Parens.{without_parens}
use Rattle.es_tree.specs.Tree.{Tree, node, Label, Fields, done, ◌then◌, Field, missing, one, many, statements, Trees, empty, ◌before◌, field_size, fields_size, tree_size, trees, trees_size}
use Rattle.es_tree.specs.Walks.{any_in_field, any_in_fields, any_in_trees, any_node}
use Rattle.es_tree.specs.Words.{Text}
use Rattle.es_tree.specs.declared.ast_type.AstType.{AstType}
use Rattle.es_tree.specs.declared.ast_type.AstType.TheVariants.{AssignmentExpression, BinaryExpression, CallExpression, CatchClause, ChainExpression, ClassDeclaration, ClassExpression, Identifier, LogicalExpression, MemberExpression, NewExpression, ObjectTarget, ParenthesizedExpression, PrivateIdentifier, Super, ThisExpression, VariableDeclaration}
use Rattle.es_resolution.specs.Seen.{name_inside, seen, seen_among, seen_by, seen_in, seen_marks}
use Rattle.es_runs.specs.Duplication.{duplicate_base}
use Rattle.es_semantic.specs.NodeMarks.{scope_mark}
use Rattle.es_runs.specs.Weights.{own_weight}
use Rattle.es_traverse.specs.Loads.{field_load, fields_allowance, fields_load, load, member_allowance, members_allowance, own_allowance, trees_load}
use Rattle.lower_temporaries.specs.SeenTrees.{is_inert, is_active_node, no_bindings, seen_alone}

module _ (names : ℕ → Text → Option ℕ) where
  -- SIZES

  mutual
    pub size-seen : (t : Tree) → tree_size (seen names t) ≡ tree_size t
    size-seen (node k l fs) = ap suc (sizes-in fs)

    sizes-in : (fs : Fields) → fields_size (seen_in names fs) ≡ fields_size fs
    sizes-in done = refl
    sizes-in (f then fs) = λ i. sizes-by f i + sizes-in fs i

    sizes-by : (f : Field) → field_size (seen_by names f) ≡ field_size f
    sizes-by missing = refl
    sizes-by (one t) = size-seen t
    sizes-by (many ts) = sizes-among ts
    sizes-by (statements ts) = sizes-among ts

    pub sizes-among : (ts : Trees) → trees_size (seen_among names ts) ≡ trees_size ts
    sizes-among empty = refl
    sizes-among (t before ts) = λ i. size-seen t i + sizes-among ts i

  -- LISTS

  pub seen-trees : (ts : List Tree) → seen_among names (trees ts) ≡ trees (map (seen names) ts)
  seen-trees [] = refl
  seen-trees (t ∷ ts) = ap (λ us. seen names t before us) (seen-trees ts)

  -- LOADS

  own-load : (k : AstType) (l : Label) (fs gs : Fields) → own_weight k (record l { id = 0; marks = seen_marks names k l fs }) gs ≡ own_weight k l fs
  own-load LogicalExpression l fs gs = refl
  own-load BinaryExpression l fs gs = refl
  own-load AssignmentExpression l fs gs = refl
  own-load MemberExpression l fs gs = refl
  own-load CallExpression l fs gs = refl
  own-load ChainExpression l fs gs = refl
  own-load _ l fs gs = refl

  members-seen : (ts : Trees) → members_allowance (seen_among names ts) ≡ members_allowance ts
  members-seen empty = refl
  members-seen (node k l fs before ts) = ap (λ n. member_allowance k + n) (members-seen ts)

  pub any_kind-seen : (test : AstType → Bool) (ts : Trees) → any_kind test (seen_among names ts) ≡ any_kind test ts
  any_kind-seen test empty = refl
  any_kind-seen test (node k l fs before ts) = ap (λ b. test k || b) (any_kind-seen test ts)

  own-fields : (k : AstType) (fs : Fields) → fields_allowance k (seen_in names fs) ≡ fields_allowance k fs
  own-fields CatchClause done = refl
  own-fields CatchClause (missing then fs) = refl
  own-fields CatchClause (one t then fs) = refl
  own-fields CatchClause (many ts then fs) = refl
  own-fields CatchClause (statements ts then fs) = refl
  own-fields ObjectTarget done = refl
  own-fields ObjectTarget (missing then fs) = refl
  own-fields ObjectTarget (one t then fs) = refl
  own-fields ObjectTarget (many ts then fs) = λ i. if any_kind-seen is_rest ts i then members-seen ts i else 0
  own-fields ObjectTarget (statements ts then fs) = refl
  own-fields _ fs = refl

  mutual
    pub load-seen : (t : Tree) → load (seen names t) ≡ load t
    load-seen (node k l fs) = λ i. suc (own-load k l fs (seen_in names fs) i + own_allowance k + own-fields k fs i + loads-in fs i)

    loads-in : (fs : Fields) → fields_load (seen_in names fs) ≡ fields_load fs
    loads-in done = refl
    loads-in (f then fs) = λ i. loads-by f i + loads-in fs i

    loads-by : (f : Field) → field_load (seen_by names f) ≡ field_load f
    loads-by missing = refl
    loads-by (one t) = load-seen t
    loads-by (many ts) = loads-among ts
    loads-by (statements ts) = loads-among ts

    pub loads-among : (ts : Trees) → trees_load (seen_among names ts) ≡ trees_load ts
    loads-among empty = refl
    loads-among (t before ts) = λ i. load-seen t i + loads-among ts i

  -- BASES

  mutual
    parts-seen : (t : Tree) → parts (seen names t) ≡ parts t
    parts-seen (node Identifier l fs) = refl
    parts-seen (node PrivateIdentifier l fs) = refl
    parts-seen (node ThisExpression l fs) = refl
    parts-seen (node Super l fs) = refl
    parts-seen (node MemberExpression l fs) = λ i. first-seen fs i ++ second-seen fs i
    parts-seen (node CallExpression l fs) = first-seen fs
    parts-seen (node NewExpression l fs) = first-seen fs
    parts-seen (node AssignmentExpression l fs) = first-seen fs
    parts-seen (node ParenthesizedExpression l fs) = first-seen fs
    parts-seen (node ChainExpression l fs) = first-seen fs
    parts-seen (node _ l fs) = refl

    first-seen : (fs : Fields) → first_parts (seen_in names fs) ≡ first_parts fs
    first-seen done = refl
    first-seen (f then fs) = field-seen f

    second-seen : (fs : Fields) → second_parts (seen_in names fs) ≡ second_parts fs
    second-seen done = refl
    second-seen (f then fs) = first-seen fs

    field-seen : (f : Field) → field_parts (seen_by names f) ≡ field_parts f
    field-seen missing = refl
    field-seen (one t) = parts-seen t
    field-seen (many ts) = refl
    field-seen (statements ts) = refl

  pub base-seen : (t : Tree) → node_base (seen names t) ≡ node_base t
  base-seen t = ap (λ ps. or_ref (without_last_digits (first_characters longest_base (without_underscores (joined ps))))) (parts-seen t)

  pub duplicate_base-seen : (t : Tree) → duplicate_base (seen names t) ≡ duplicate_base t
  duplicate_base-seen (node Identifier l fs) = refl
  duplicate_base-seen (node k l fs) = base-seen (node k l fs)

  -- PARENTHESES

  pub parens-seen : (t : Tree) → without_parens (seen names t) ≡ seen names (without_parens t)
  parens-seen (node ParenthesizedExpression l (one t then fs)) = parens-seen t
  parens-seen (node ParenthesizedExpression l done) = refl
  parens-seen (node ParenthesizedExpression l (missing then fs)) = refl
  parens-seen (node ParenthesizedExpression l (many ts then fs)) = refl
  parens-seen (node ParenthesizedExpression l (statements ts then fs)) = refl
  parens-seen (node _ l fs) = refl

  -- NEW IDS

  inside : (o : Option ℕ) (m : ℕ) (fs : Fields) → name_inside names o (renumber_fields m fs) ≡ name_inside names o fs
  inside None m fs = refl
  inside (Some s) m done = refl
  inside (Some s) m (missing then fs) = refl
  inside (Some s) m (one (node k l gs) then fs) = refl
  inside (Some s) m (many ts then fs) = refl
  inside (Some s) m (statements ts then fs) = refl

  own-marks : (k : AstType) (l : Label) (n m : ℕ) (fs : Fields) → seen_marks names k (record l { id = n }) (renumber_fields m fs) ≡ seen_marks names k l fs
  own-marks Identifier l n m fs = refl
  own-marks ClassDeclaration l n m fs = ap (λ o. o ∷ []) (inside (scope_mark l) m fs)
  own-marks ClassExpression l n m fs = ap (λ o. o ∷ []) (inside (scope_mark l) m fs)
  own-marks _ l n m fs = refl

  mutual
    pub renumber-seen : (n : ℕ) (t : Tree) → seen names (renumber n t) ≡ seen names t
    renumber-seen n (node k l fs) = λ i. node k (record l { id = 0; marks = own-marks k l n (suc n) fs i }) (renumbered-in (suc n) fs i)

    renumbered-in : (n : ℕ) (fs : Fields) → seen_in names (renumber_fields n fs) ≡ seen_in names fs
    renumbered-in n done = refl
    renumbered-in n (f then fs) = λ i. renumbered-by n f i then renumbered-in (n + field_size f) fs i

    renumbered-by : (n : ℕ) (f : Field) → seen_by names (renumber_field n f) ≡ seen_by names f
    renumbered-by n missing = refl
    renumbered-by n (one t) = ap one (renumber-seen n t)
    renumbered-by n (many ts) = ap many (renumbered-among n ts)
    renumbered-by n (statements ts) = ap statements (renumbered-among n ts)

    renumbered-among : (n : ℕ) (ts : Trees) → seen_among names (renumber_trees n ts) ≡ seen_among names ts
    renumbered-among n empty = refl
    renumbered-among n (t before ts) = λ i. renumber-seen n t i before renumbered-among (n + tree_size t) ts i

  -- INERT TREES

  own-alone : (k : AstType) (l : Label) (fs : Fields) → is_class k ≡ false → seen_marks names k l fs ≡ seen_marks no_bindings k l fs
  own-alone Identifier l fs h = refl
  own-alone ClassDeclaration l fs h = absurd (cc h)
  own-alone ClassExpression l fs h = absurd (cc h)
  own-alone _ l fs h = refl

  no-class : (k : AstType) (l : Label) (fs : Fields) → is_active_node k l fs ≡ false → is_class k ≡ false
  no-class ClassDeclaration l fs h = h
  no-class ClassExpression l fs h = h
  no-class _ l fs h = refl

  mutual
    seen-alone : (t : Tree) → any_node is_active_node t ≡ false → seen names t ≡ seen_alone t
    seen-alone (node k l fs) h = let p = or_parts (is_active_node k l fs) (any_in_fields is_active_node fs) h in λ i. node k (record l { id = 0; marks = own-alone k l fs (no-class k l fs p.0) i }) (alone-in fs p.1 i)

    alone-in : (fs : Fields) → any_in_fields is_active_node fs ≡ false → seen_in names fs ≡ seen_in no_bindings fs
    alone-in done h = refl
    alone-in (f then fs) h = let p = or_parts (any_in_field is_active_node f) (any_in_fields is_active_node fs) h in λ i. alone-by f p.0 i then alone-in fs p.1 i

    alone-by : (f : Field) → any_in_field is_active_node f ≡ false → seen_by names f ≡ seen_by no_bindings f
    alone-by missing h = refl
    alone-by (one t) h = ap one (seen-alone t h)
    alone-by (many ts) h = ap many (alone-among ts h)
    alone-by (statements ts) h = ap statements (alone-among ts h)

    alone-among : (ts : Trees) → any_in_trees is_active_node ts ≡ false → seen_among names ts ≡ seen_among no_bindings ts
    alone-among empty h = refl
    alone-among (t before ts) h = let p = or_parts (any_node is_active_node t) (any_in_trees is_active_node ts) h in λ i. seen-alone t p.0 i before alone-among ts p.1 i

  not-true : (b : Bool) → not b ≡ true → b ≡ false
  not-true true h = absurd (cc h)
  not-true false h = refl

  pub inert-seen : (t : Tree) → is_inert t ≡ true → seen names t ≡ seen_alone t
  inert-seen t h = seen-alone t (not-true (any_node is_active_node t) h)

  -- what is seen of them is inert too
  active-seen : (k : AstType) (l : Label) (ms : List (Option ℕ)) (fs gs : Fields) → is_active_node k (record l { id = 0; marks = ms }) gs ≡ is_active_node k l fs
  active-seen VariableDeclaration l ms fs gs = refl
  active-seen _ l ms fs gs = refl

  mutual
    any-active-seen : (t : Tree) → any_node is_active_node (seen names t) ≡ any_node is_active_node t
    any-active-seen (node k l fs) = λ i. active-seen k l (seen_marks names k l fs) fs (seen_in names fs) i || active-seen-in fs i

    active-seen-in : (fs : Fields) → any_in_fields is_active_node (seen_in names fs) ≡ any_in_fields is_active_node fs
    active-seen-in done = refl
    active-seen-in (f then fs) = λ i. active-seen-by f i || active-seen-in fs i

    active-seen-by : (f : Field) → any_in_field is_active_node (seen_by names f) ≡ any_in_field is_active_node f
    active-seen-by missing = refl
    active-seen-by (one t) = any-active-seen t
    active-seen-by (many ts) = active-seen-among ts
    active-seen-by (statements ts) = active-seen-among ts

    active-seen-among : (ts : Trees) → any_in_trees is_active_node (seen_among names ts) ≡ any_in_trees is_active_node ts
    active-seen-among empty = refl
    active-seen-among (t before ts) = λ i. any-active-seen t i || active-seen-among ts i

  pub is-inert-seen : (t : Tree) → is_inert (seen names t) ≡ is_inert t
  is-inert-seen t = ap not (any-active-seen t)
