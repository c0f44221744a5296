-- What a source becomes once lists of excluded keys are shared: its helpers are imported, or it stays as it is.
use Rattle.std.proofs.Common.{◌≡◌, ◌∙◌, ◌+◌, ◌≤◌, List, [], None, Option, Some, ℕ, ap, arith, refl, sym, true≢false}
use Rattle.std.proofs.lemmas.Bool.{and_parts}
use Rattle.std.specs.Prelude.{Bool, true, false, ◌&&◌, ◌||◌, codes, not, is_some, option_map, string_bytes, if◌then◌else◌}
use Rattle.es_tree.specs.Constructs.{has_enabled_construct, is_object_rest, is_object_spread}
use Rattle.es_tree.specs.Core.{is_core_node}
use Rattle.es_tree.specs.HasForm.{has_form}
use Rattle.es_tree.specs.Options.{is_external}
use Rattle.es_tree.specs.RestTargets.{is_rest_assignment}
use Rattle.es_tree.specs.StaticRules.{breaks}
use Rattle.es_tree.specs.Tree.{Tree, node, Label, Fields, done, ◌then◌, Field, missing, one, many, statements, Trees, empty, ◌before◌, tree_size}
use Rattle.es_tree.specs.Walks.{all_nodes, any_in_field, any_in_fields, any_in_trees, any_node, first_in_field, first_in_fields, first_in_trees, first_node, or_later}
use Rattle.es_tree.specs.Words.{Text}
use Rattle.es_tree.specs.declared.ast_type.AstType.{AstType}
use Rattle.es_tree.specs.declared.error.UnsupportedKind.{UnsupportedKind}
use Rattle.es_tree.specs.declared.error.UnsupportedKind.TheVariants.{HelperName}
use Rattle.es_tree.specs.declared.options.EnvOptions.{EnvOptions}
use Rattle.es_tree.specs.declared.table.Sort.TheVariants.{Program as s-Program}
use Rattle.es_runs.proofs.Named.{or_both}
use Rattle.es_rest_shapes.specs.RestShapes.{is_rest_declaration}
use Rattle.es_rest_shapes.proofs.NoneLeft.{law_assigned_rests_proof, law_declared_rests_proof}
use Rattle.es_helper_calls.specs.Importing.{asks_helper, binds_require, uses_helper, first_unimported, imports_helpers, is_module, needs_helper, unimported, unimported_where}
use Rattle.es_helper_calls.specs.HelperCalls.{helpers_called}
use Rattle.es_helper_imports.specs.Imported.{imported_as, unmarked}
use Rattle.es_helper_imports.specs.Laws.{IsImported}
use Rattle.es_helper_imports.proofs.Imported.{law_imported_proof}
use Rattle.es_helper_imports.proofs.NoConstructs.{law_no_constructs_proof}
use Rattle.es_helper_imports.proofs.Sizes.{law_imported_size_proof}
use Rattle.es_lowered.specs.Lowered.{IsLowered}
use Rattle.es_resolution.specs.Laws.{source}
use Rattle.es_steps.specs.CoreBridge.{first_whole}
use Rattle.es_top_imports.specs.Laws.{list_place}
use Rattle.es_top_names.proofs.RequireFree.{law_require_free_proof}
use Rattle.es_unsupported.specs.FirstUnsupported.{first_unsupported}
use Rattle.es_unsupported.proofs.Firsts.{left_none, right_none}
use Rattle.lower_driver.specs.Imports.{Imports}
use Rattle.lower_driver.specs.SharesKeys.{SharesKeys}
use Rattle.lower_driver.specs.UnsupportedPrograms.{first_refused}
use Rattle.es_helper_imports.proofs.BareConstructs.{same-constructs}
use Rattle.lower_driver.proofs.CoreNodes.{no-spread}
use Rattle.lower_driver.proofs.EitherTest.{any-where, none-of-tree}
use Rattle.lower_driver.proofs.Moved.{off-anyway}
use Rattle.lower_driver.proofs.Shared.{none-shared, shared-program, shared-require}

-- WHERE NOTHING NEEDS A HELPER

abbrev spread_or_declaration : AstType → Label → Fields → Bool
spread_or_declaration k l fs = is_object_spread k l fs || is_rest_declaration k l fs

none-needs : (p : Tree) → any_node is_object_spread p ≡ false → any_node is_object_rest p ≡ false → any_node needs_helper p ≡ false
none-needs p spreads rests =
    none-of-tree spread_or_declaration is_rest_assignment needs_helper (λ k l fs. refl) p (none-of-tree is_object_spread is_rest_declaration spread_or_declaration (λ k l fs. refl) p spreads (law_declared_rests_proof p rests)) (law_assigned_rests_proof p rests)

-- a program in which no `using` was lowered and no object spread or rest is to be lowered imports none
pub none-unimporting : (o : EnvOptions) (made : Bool) (p : Tree) → made ≡ false → (is_some o.es2018.object_rest_spread && any_node is_object_spread p) ≡ false → (is_some o.es2018.object_rest_spread && any_node is_object_rest p) ≡ false → imports_helpers o made p ≡ false
none-unimporting o made p unmade spreads rests =
    let copies : any_node (λ k l fs. is_some o.es2018.object_rest_spread && needs_helper k l fs) p ≡ false = any-where (is_some o.es2018.object_rest_spread) needs_helper p ∙ at (is_some o.es2018.object_rest_spread) spreads rests in
    let calls : any_node (λ k l fs. made && uses_helper k l fs) p ≡ false = any-where made uses_helper p ∙ ap (λ b. b && any_node uses_helper p) unmade in
    off-anyway (not (is_external o.helper_loader.mode)) (any_node (asks_helper o made) p)
    (none-of-tree (λ k l fs. is_some o.es2018.object_rest_spread && needs_helper k l fs) (λ k l fs. made && uses_helper k l fs) (asks_helper o made) (λ k l fs. refl) p copies calls)
  where
    at : (on : Bool) → (on && any_node is_object_spread p) ≡ false → (on && any_node is_object_rest p) ≡ false → (on && any_node needs_helper p) ≡ false
    at true e d = none-needs p e d
    at false e d = refl

-- nor does a core program
pub core-unimporting : (o : EnvOptions) (made : Bool) (p : Tree) → made ≡ false → all_nodes is_core_node p ≡ true → any_node is_object_rest p ≡ false → imports_helpers o made p ≡ false
core-unimporting o made p unmade core rests = let on = is_some o.es2018.object_rest_spread in none-unimporting o made p unmade (off-anyway on (any_node is_object_spread p) (no-spread p core)) (off-anyway on (any_node is_object_rest p) rests)

-- where it imports none, nothing stands in the way
pub unimporting-none : (o : EnvOptions) (made : Bool) (own : Option ℕ) (p : Tree) → imports_helpers o made p ≡ false → first_unimported o made own p ≡ None
unimporting-none o made own p e = rw e refl

pub none-refused : (o : EnvOptions) (made : Bool) (own : Option ℕ) (p : Tree) → first_unsupported o p ≡ None → imports_helpers o made p ≡ false → first_refused o made own p ≡ None
none-refused o made own p e off = rw (e, unimporting-none o made own p off) refl

-- WHAT STANDS IN THE WAY

-- the first node of a test is none where no node passes it
later-none : (a b : Option ℕ) → or_later a b ≡ None → (a ≡ None) × (b ≡ None)
later-none None b h = (refl, h)
later-none (Some n) b h = absurd (cc h)

either-none : (b : Bool) (n : ℕ) (first : Option ℕ) (later : Bool) → (if b then Some n else first) ≡ None → (first ≡ None → later ≡ false) → (b || later) ≡ false
either-none true n first later h rest = absurd (cc h)
either-none false n first later h rest = rest h

module _ (test : AstType → Label → Fields → Bool) where
  mutual
    first-none : (t : Tree) → first_node test t ≡ None → any_node test t ≡ false
    first-none (node k l fs) h = either-none (test k l fs) l.id (first_in_fields test fs) (any_in_fields test fs) h (first-none-in fs)

    first-none-in : (fs : Fields) → first_in_fields test fs ≡ None → any_in_fields test fs ≡ false
    first-none-in done h = refl
    first-none-in (f then fs) h = let p = later-none (first_in_field test f) (first_in_fields test fs) h in or_both (any_in_field test f) (any_in_fields test fs) (first-none-by f p.0) (first-none-in fs p.1)

    first-none-by : (f : Field) → first_in_field test f ≡ None → any_in_field test f ≡ false
    first-none-by missing h = refl
    first-none-by (one t) h = first-none t h
    first-none-by (many ts) h = first-none-among ts h
    first-none-by (statements ts) h = first-none-among ts h

    first-none-among : (ts : Trees) → first_in_trees test ts ≡ None → any_in_trees test ts ≡ false
    first-none-among empty h = refl
    first-none-among (t before ts) h = let p = later-none (first_node test t) (first_in_trees test ts) h in or_both (any_node test t) (any_in_trees test ts) (first-none t p.0) (first-none-among ts p.1)

named-none : (n : Option ℕ) → option_map {U = UnsupportedKind × ℕ} (λ m. (HelperName, m)) n ≡ None → n ≡ None
named-none None h = refl
named-none (Some n) h = absurd (cc h)

-- where nothing does, a script binds no `require` at its top
require-unbound : (o : EnvOptions) (made : Bool) (own : Option ℕ) (p : Tree) → imports_helpers o made p ≡ true → first_unimported o made own p ≡ None → binds_require p ≡ false
require-unbound o made own p on none = at (binds_require p) (ap (λ (b : Bool). if b then unimported_where o made own (binds_require p) p else None) (sym on) ∙ named-none (unimported o made own p) none)
  where
    at : (bound : Bool) → unimported_where o made own bound p ≡ None → bound ≡ false
    at false h = refl
    at true h =
        let needed : any_node (asks_helper o made) p ≡ true = (and_parts (not (is_external o.helper_loader.mode)) (any_node (asks_helper o made) p) on).1 in
        absurd (true≢false (sym needed ∙ first-none (asks_helper o made) p (left_none (first_node (asks_helper o made) p) own h)))

-- WHAT IT BECOMES

module _
    (o : EnvOptions) (made shares_on : Bool) (own : Option ℕ) (q lowered shared written : Tree) (later keys last : List Text) (form : has_form s-Program q ≡ true) (right : breaks q ≡ []) (none : first_refused o made own q ≡ None) (result : IsLowered o q lowered later) (shares : SharesKeys shares_on lowered shared keys)
    (m : Imports (imports_helpers o made q) (string_bytes o.helper_loader.module_name) shared written last) where
  abbrev module_text : Text
  module_text = string_bytes o.helper_loader.module_name

  -- nor does what was lowered in place,
  pub require-free : imports_helpers o made q ≡ true → is_module lowered ≡ false → (list_place (source lowered)).scope (codes "require") ≡ None
  require-free on script = law_require_free_proof o q lowered later form right result (require-unbound o made own q on (right_none (first_unsupported o q) (first_unimported o made own q) none)) script

  -- nor what shares lists
  there : (has_form s-Program shared ≡ true) × (breaks shared ≡ [])
  there = shared-program shares_on lowered shared keys result.result.form result.result.kept shares

  pub is-imported : imports_helpers o made q ≡ true → IsImported module_text shared written last
  is-imported on = law_imported_proof module_text shared written last there.0 there.1 (shared-require shares_on lowered shared keys result.result.form result.result.kept shares (require-free on)) (m.goes on)

  -- a program that breaks no static rule
  pub imported-program : (has_form s-Program written ≡ true) × (breaks written ≡ [])
  imported-program = at (imports_helpers o made q) refl
    where
      at : (b : Bool) → imports_helpers o made q ≡ b → (has_form s-Program written ≡ true) × (breaks written ≡ [])
      at true on = let is = is-imported on in (is.form, is.kept)
      at false off = rw (m.stays off).0 there

  pub none-left : has_enabled_construct o lowered ≡ false → has_enabled_construct o written ≡ false
  none-left earlier = at (imports_helpers o made q) refl
    where
      none-there : has_enabled_construct o shared ≡ false
      none-there = none-shared shares_on lowered shared keys shares o earlier

      at : (b : Bool) → imports_helpers o made q ≡ b → has_enabled_construct o written ≡ false
      at true on =
          let hs = helpers_called shared in
          same-constructs o (imported_as module_text hs (unmarked last) shared) written (m.goes on).written ∙ law_no_constructs_proof o module_text hs (unmarked last) shared none-there
      at false off = ap (has_enabled_construct o) (m.stays off).0 ∙ none-there

  pub size-after : tree_size written ≤ tree_size shared + (if imports_helpers o made q then 36 else 0)
  size-after = at (imports_helpers o made q) refl
    where
      at : (b : Bool) → imports_helpers o made q ≡ b → tree_size written ≤ tree_size shared + (if b then 36 else 0)
      at true on = law_imported_size_proof (first_whole shared).in_use module_text shared written last (m.goes on)
      at false off = rw (m.stays off).0 (omega arith)
