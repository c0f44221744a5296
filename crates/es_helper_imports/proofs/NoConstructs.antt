-- The law that a program which imports its helpers has no construct that it hadn't before: no test of a construct holds of a call, or tells what a
-- call calls, and what is imported has none.
use Rattle.std.proofs.Common.{◌≡◌, ℕ, zero, suc, refl, ap, ◌∙◌}
use Rattle.std.specs.Prelude.{List, [], ◌∷◌, Bool, true, false, ◌&&◌, ◌||◌, not, bytes_eq, codes, is_some, map, if◌then◌else◌}
use Rattle.std.proofs.lemmas.Bool.{or_from, or_parts}
use Rattle.es_tree.specs.Constructs.{any_kind, field_at, has_member, is_arrow, is_big_int, is_chain, is_child, is_enabled_construct, is_exponentiation, is_logical_assignment, is_namespace_export, is_nullish_coalescing, is_optional_catch, is_private_member, is_private_name, is_object_rest, is_object_spread, is_private_target, is_rest, is_spread, is_using, stands}
use Rattle.es_tree.specs.Names.{first_text}
use Rattle.es_tree.specs.Tree.{Tree, node, Label, Fields, done, ◌then◌, Field, statements, Trees, empty, ◌before◌, fields_of, kind_of, trees}
use Rattle.es_tree.specs.Walks.{any_node, any_in_fields, any_in_field, any_in_trees}
use Rattle.es_tree.specs.declared.ast_type.AstType.{AstType}
use Rattle.es_tree.specs.declared.ast_type.AstType.TheVariants.{ArrowFunctionExpression, AssignmentExpression, BinaryExpression, CatchClause, ChainExpression, ExportAllDeclaration, LogicalExpression, MemberExpression, ObjectExpression, ObjectPattern, ObjectTarget, Program, VariableDeclaration}
use Rattle.es_tree.specs.declared.options.EnvOptions.{EnvOptions}
use Rattle.es_resolution.specs.Declarations.{Bound}
use Rattle.es_steps.specs.Nodes.{identifier, joined_trees}
use Rattle.es_steps.specs.Open.{after_imports, is_import}
use Rattle.es_valid_names.proofs.Grown.{never}
use Rattle.es_helper_calls.specs.HelperCalls.{bound_of, calling}
use Rattle.es_helper_calls.specs.Importing.{is_module}
use Rattle.es_helper_calls.proofs.CalledTrees.{Calls, CallsAll, CallsBy, CallsHere, CallsIn}
use Rattle.es_helper_calls.proofs.CalledTrees.Calls.{becomes}
use Rattle.es_helper_calls.proofs.CalledTrees.CallsAll.{next, none}
use Rattle.es_helper_calls.proofs.CalledTrees.CallsBy.{at_many, at_none, at_one, at_statements}
use Rattle.es_helper_calls.proofs.CalledTrees.CallsHere.{calls, lists, passes, stays}
use Rattle.es_helper_calls.proofs.CalledTrees.CallsIn.{ends, goes}
use Rattle.es_helper_calls.proofs.CallingTrees.{AnyWay, calls-anyhow, named_by}
use Rattle.es_helper_calls.proofs.CallNodes.{kind-now, parens-now}
use Rattle.es_top_imports.specs.TopImports.{Import, top_of, with_top}
use Rattle.es_helper_imports.specs.Imported.{imports_of}
use Rattle.es_helper_imports.specs.Laws.{LawNoConstructs}

-- WHERE PARTS OF CALLS GIVE WAY TO NAMES each test tells the same

module _ (P : Tree → Bound → Type 0) where
  field-now : (n : ℕ) {fs gs : Fields} → CallsIn P fs gs → CallsBy P (field_at n fs) (field_at n gs)
  field-now n ends = at_none
  field-now zero (goes k h) = k
  field-now (suc n) (goes k h) = field-now n h

  child-now : (p : AstType → Bool) {f g : Field} → CallsBy P f g → is_child p g ≡ is_child p f
  child-now p at_none = refl
  child-now p (at_one k) = ap p (kind-now P k)
  child-now p (at_many k) = refl
  child-now p (at_statements k) = refl

  child_at-now : (p : AstType → Bool) (n : ℕ) {fs gs : Fields} → CallsIn P fs gs → is_child p (field_at n gs) ≡ is_child p (field_at n fs)
  child_at-now p n h = child-now p (field-now n h)

  any_kind-now : (p : AstType → Bool) {ts us : Trees} → CallsAll P ts us → any_kind p us ≡ any_kind p ts
  any_kind-now p none = refl
  any_kind-now p (next k h) = λ i. p (kind-now P k i) || any_kind-now p h i

  member-now : (p : AstType → Bool) {f g : Field} → CallsBy P f g → has_member p g ≡ has_member p f
  member-now p at_none = refl
  member-now p (at_one k) = refl
  member-now p (at_many h) = any_kind-now p h
  member-now p (at_statements h) = refl

  member_at-now : (p : AstType → Bool) {fs gs : Fields} → CallsIn P fs gs → has_member p (field_at 0 gs) ≡ has_member p (field_at 0 fs)
  member_at-now p h = member-now p (field-now 0 h)

  stands-now : {f g : Field} → CallsBy P f g → stands g ≡ stands f
  stands-now at_none = refl
  stands-now (at_one k) = refl
  stands-now (at_many h) = refl
  stands-now (at_statements h) = refl

  stands_at-now : {fs gs : Fields} → CallsIn P fs gs → stands (field_at 0 gs) ≡ stands (field_at 0 fs)
  stands_at-now h = stands-now (field-now 0 h)

  private-now : {t u : Tree} → Calls P t u → is_private_member (kind_of u) (fields_of u) ≡ is_private_member (kind_of t) (fields_of t)
  private-now (becomes {k = MemberExpression} (stays h)) = child_at-now is_private_name 1 h
  private-now (becomes h) = refl

  target-now : {f g : Field} → CallsBy P f g → is_private_target g ≡ is_private_target f
  target-now at_none = refl
  target-now (at_one k) = private-now (parens-now P k)
  target-now (at_many h) = refl
  target-now (at_statements h) = refl

  -- THE ROWS

  power-now : (k : AstType) (l : Label) {fs gs : Fields} → CallsHere P k l fs gs → is_exponentiation k l gs ≡ is_exponentiation k l fs
  power-now BinaryExpression l (stays h) = λ i. bytes_eq (first_text l.texts) (codes "**") && not (child_at-now is_big_int 0 h i) && not (child_at-now is_big_int 1 h i)
  power-now AssignmentExpression l (stays h) = λ i. bytes_eq (first_text l.texts) (codes "**=") && not (child_at-now is_big_int 1 h i)
  power-now _ l h = refl

  assignment-now : (k : AstType) (l : Label) {fs gs : Fields} → CallsHere P k l fs gs → is_logical_assignment k l gs ≡ is_logical_assignment k l fs
  assignment-now AssignmentExpression l (stays h) = λ i. (bytes_eq (first_text l.texts) (codes "||=") || bytes_eq (first_text l.texts) (codes "&&=") || bytes_eq (first_text l.texts) (codes "??=")) && not (target-now (field-now 0 h) i)
  assignment-now _ l h = refl

  coalescing-now : (k : AstType) (l : Label) (fs gs : Fields) → is_nullish_coalescing k l gs ≡ is_nullish_coalescing k l fs
  coalescing-now LogicalExpression l fs gs = refl
  coalescing-now _ l fs gs = refl

  spread-now : (k : AstType) (l : Label) {fs gs : Fields} → CallsHere P k l fs gs → is_object_spread k l gs ≡ is_object_spread k l fs
  spread-now ObjectExpression l (stays h) = member_at-now is_spread h
  spread-now _ l h = refl

  rest-now : (k : AstType) (l : Label) {fs gs : Fields} → CallsHere P k l fs gs → is_object_rest k l gs ≡ is_object_rest k l fs
  rest-now ObjectPattern l (stays h) = member_at-now is_rest h
  rest-now ObjectTarget l (stays h) = member_at-now is_rest h
  rest-now _ l h = refl

  catch-now : (k : AstType) (l : Label) {fs gs : Fields} → CallsHere P k l fs gs → is_optional_catch k l gs ≡ is_optional_catch k l fs
  catch-now CatchClause l (stays h) = ap not (stands_at-now h)
  catch-now _ l h = refl

  export-now : (k : AstType) (l : Label) {fs gs : Fields} → CallsHere P k l fs gs → is_namespace_export k l gs ≡ is_namespace_export k l fs
  export-now ExportAllDeclaration l (stays h) = stands_at-now h
  export-now _ l h = refl

  using-now : (k : AstType) (l : Label) (fs gs : Fields) → is_using k l gs ≡ is_using k l fs
  using-now VariableDeclaration l fs gs = refl
  using-now _ l fs gs = refl

  chain-now : (k : AstType) (l : Label) (fs gs : Fields) → is_chain k l gs ≡ is_chain k l fs
  chain-now ChainExpression l fs gs = refl
  chain-now _ l fs gs = refl

  arrow-now : (k : AstType) (l : Label) (fs gs : Fields) → is_arrow k l gs ≡ is_arrow k l fs
  arrow-now ArrowFunctionExpression l fs gs = refl
  arrow-now _ l fs gs = refl

  enabled-now : (o : EnvOptions) (k : AstType) (l : Label) {fs gs : Fields} → CallsHere P k l fs gs → is_enabled_construct o k l gs ≡ is_enabled_construct o k l fs
  enabled-now o k l {fs} {gs} h = λ i.
      ((o.es2016.exponentiation_operator && power-now k l h i)
      || (o.es2020.nullish_coalescing_operator && coalescing-now k l fs gs i)
      || (o.es2020.optional_chaining && chain-now k l fs gs i)
      || (o.es2021.logical_assignment_operators && assignment-now k l h i)
      || (is_some o.es2018.object_rest_spread && (spread-now k l h i || rest-now k l h i))
      || (is_some o.es2015.arrow_function && arrow-now k l fs gs i))
      || ((o.es2019.optional_catch_binding && catch-now k l h i)
      || (o.es2020.export_namespace_from && export-now k l h i)
      || (o.es2026.explicit_resource_management && using-now k l fs gs i))

module _ (o : EnvOptions) where
  abbrev test : AstType → Label → Fields → Bool
  test k l fs = is_enabled_construct o k l fs

  -- no row speaks of it
  pub no-row : test Program (record { id = 0; start = 0; stop = 0; texts = []; flags = []; marks = [] }) done ≡ false
  no-row = λ i.
      (never o.es2016.exponentiation_operator false refl i
      || never o.es2020.nullish_coalescing_operator false refl i
      || never o.es2020.optional_chaining false refl i
      || never o.es2021.logical_assignment_operators false refl i
      || never (is_some o.es2018.object_rest_spread) false refl i
      || never (is_some o.es2015.arrow_function) false refl i)
      || (never o.es2019.optional_catch_binding false refl i
      || never o.es2020.export_namespace_from false refl i
      || never o.es2026.explicit_resource_management false refl i)

  -- A TREE has no construct where it had none before

  none-named : (b : Bound) → any_node test (identifier b) ≡ false
  none-named b = or_from _ false no-row refl

  module _ (P : Tree → Bound → Type 0) where
    mutual
      pub none-now : {t u : Tree} → Calls P t u → any_node test t ≡ false → any_node test u ≡ false
      none-now (becomes {k = k} {l = l} {fs = fs} {gs = gs} h) e =
          let parts = or_parts (test k l fs) (any_in_fields test fs) e in
          or_from (test k l gs) (any_in_fields test gs) (enabled-now P o k l h ∙ parts.0) (none-here h parts.1)

      none-here : {k : AstType} {l : Label} {fs gs : Fields} → CallsHere P k l fs gs → any_in_fields test fs ≡ false → any_in_fields test gs ≡ false
      none-here (stays h) e = none-in h e
      none-here (calls {f = f} {fs = fs} {gs = gs} b p mark it h) e = or_from (any_node test (identifier b)) (any_in_fields test gs) (none-named b) (none-in h (or_parts (any_node test f) (any_in_fields test fs) e).1)
      none-here (passes {f = f} {g = g} {t = t} {fs = fs} {gs = gs} b p mark other it k h) e =
          let parts = or_parts (any_node test f) (any_in_trees test (t before empty) || any_in_fields test fs) e in
          let later = or_parts (any_in_trees test (t before empty)) (any_in_fields test fs) parts.1 in
          or_from (any_node test g) (any_in_trees test (identifier b before empty) || any_in_fields test gs) (none-now k parts.0)
          (or_from (any_in_trees test (identifier b before empty)) (any_in_fields test gs) (or_from (any_node test (identifier b)) false (none-named b) refl) (none-in h later.1))
      none-here (lists {f = f} {g = g} {s = s} {t = t} {ks = ks} b p texts k h) e =
          let parts = or_parts (any_node test f) (any_in_trees test (s before (ks before empty)) || false) e in
          let list = or_parts (any_in_trees test (s before (ks before empty))) false parts.1 in
          let first = or_parts (any_node test s) (any_in_trees test (ks before empty)) list.0 in
          or_from (any_node test g) (any_in_trees test (t before (identifier b before empty)) || false) (none-now k parts.0)
          (or_from (any_in_trees test (t before (identifier b before empty))) false (or_from (any_node test t) (any_in_trees test (identifier b before empty)) (none-now h first.0) (or_from (any_node test (identifier b)) false (none-named b) refl)) refl)

      none-in : {fs gs : Fields} → CallsIn P fs gs → any_in_fields test fs ≡ false → any_in_fields test gs ≡ false
      none-in ends e = refl
      none-in (goes {f = f} {g = g} {fs = fs} {gs = gs} k h) e =
          let parts = or_parts (any_in_field test f) (any_in_fields test fs) e in
          or_from (any_in_field test g) (any_in_fields test gs) (none-by k parts.0) (none-in h parts.1)

      none-by : {f g : Field} → CallsBy P f g → any_in_field test f ≡ false → any_in_field test g ≡ false
      none-by at_none e = refl
      none-by (at_one h) e = none-now h e
      none-by (at_many h) e = none-all h e
      none-by (at_statements h) e = none-all h e

      none-all : {ts us : Trees} → CallsAll P ts us → any_in_trees test ts ≡ false → any_in_trees test us ≡ false
      none-all none e = refl
      none-all (next {t = t} {u = u} {ts = ts} {us = us} k h) e =
          let parts = or_parts (any_node test t) (any_in_trees test ts) e in
          or_from (any_node test u) (any_in_trees test us) (none-now k parts.0) (none-all h parts.1)

  -- WHAT IS IMPORTED

  none-made : (b : Bool) (i : Import) → any_node test (top_of b i) ≡ false
  none-made true m = λ i. no-row i || (((no-row i || ((no-row i || false) || false)) || false) || ((no-row i || false) || (false || false)))
  none-made false m = λ i. no-row i || (((no-row i || ((no-row i || false) || ((no-row i || ((no-row i || false) || (((no-row i || false) || false) || false))) || false))) || false) || false)

  none-imported : (b : Bool) (ms : List Import) → any_in_trees test (trees (map (top_of b) ms)) ≡ false
  none-imported b [] = refl
  none-imported b (m ∷ ms) = or_from (any_node test (top_of b m)) (any_in_trees test (trees (map (top_of b) ms))) (none-made b m) (none-imported b ms)

  -- behind the imports of a list

  none-joined : (xs ts : Trees) → any_in_trees test xs ≡ false → any_in_trees test ts ≡ false → any_in_trees test (joined_trees xs ts) ≡ false
  none-joined empty ts e d = d
  none-joined (x before xs) ts e d =
      let parts = or_parts (any_node test x) (any_in_trees test xs) e in
      or_from (any_node test x) (any_in_trees test (joined_trees xs ts)) parts.0 (none-joined xs ts parts.1 d)

  none-after : (xs ts : Trees) → any_in_trees test xs ≡ false → any_in_trees test ts ≡ false → any_in_trees test (after_imports xs ts) ≡ false
  none-after xs empty e d = e
  none-after xs (t before ts) e d = let parts = or_parts (any_node test t) (any_in_trees test ts) d in at (is_import t) parts.0 (none-after xs ts e parts.1)
    where
      at : (v : Bool) → any_node test t ≡ false → any_in_trees test (after_imports xs ts) ≡ false → any_in_trees test (if v then t before after_imports xs ts else joined_trees xs (t before ts)) ≡ false
      at true here rest = or_from (any_node test t) (any_in_trees test (after_imports xs ts)) here rest
      at false here rest = none-joined xs (t before ts) e d

  -- no test asks which statements stand in a list
  enabled-list : (k : AstType) (l : Label) (f : Field) (ts us : Trees) (fs : Fields) → test k l (f then (statements us then fs)) ≡ test k l (f then (statements ts then fs))
  enabled-list Program l f ts us fs = refl
  enabled-list _ l f ts us fs = refl

  pub none-top : (xs : Trees) (t : Tree) → any_in_trees test xs ≡ false → any_node test t ≡ false → any_node test (with_top xs t) ≡ false
  none-top xs (node k l (f then (statements ts then fs))) e d =
      let parts = or_parts (test k l (f then (statements ts then fs))) (any_in_fields test (f then (statements ts then fs))) d in
      let inner = or_parts (any_in_field test f) (any_in_trees test ts || any_in_fields test fs) parts.1 in
      let lists = or_parts (any_in_trees test ts) (any_in_fields test fs) inner.1 in
      or_from (test k l (f then (statements (after_imports xs ts) then fs))) (any_in_fields test (f then (statements (after_imports xs ts) then fs))) (enabled-list k l f ts (after_imports xs ts) fs ∙ parts.0)
      (or_from (any_in_field test f) (any_in_trees test (after_imports xs ts) || any_in_fields test fs) inner.0 (or_from (any_in_trees test (after_imports xs ts)) (any_in_fields test fs) (none-after xs ts e lists.0) lists.1))
  none-top xs _ e d = d

pub law_no_constructs_proof : LawNoConstructs
law_no_constructs_proof o m hs bs p e =
    none-top o (trees (map (top_of (is_module p)) (imports_of m hs bs))) (calling (named_by (bound_of hs bs)) p) (none-imported o (is_module p) (imports_of m hs bs)) (none-now o AnyWay (calls-anyhow (bound_of hs bs) p) e)
