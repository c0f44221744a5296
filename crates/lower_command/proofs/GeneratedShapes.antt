-- In the script of any number of statements no shape stands that isn't taken: it binds no name, and has no template, no object literal, no
-- pattern and no arrow.
use Rattle.std.proofs.Common.{◌≡◌, ℕ, zero, suc, ◌+◌, ◌%◌, List, [], ◌∷◌, map, Bool, true, false, ◌&&◌, ◌||◌, None, refl, ap, ◌∙◌}
use Rattle.std.specs.Prelude.{not, is_some, codes}
use Rattle.std.specs.List.{range_with_len}
use Rattle.es_tree.specs.Ancestors.{ancestor}
use Rattle.es_tree.specs.Constructs.{field_at, is_exponentiation, is_object_rest, is_object_spread, is_using}
use Rattle.es_tree.specs.HasForm.{same_type}
use Rattle.es_tree.specs.Tree.{Label, Fields, Field, done, node, trees}
use Rattle.es_tree.specs.Walks.{any_in_fields, any_in_trees, any_node}
use Rattle.es_tree.specs.Words.{Text}
use Rattle.es_tree.specs.declared.ast_type.AstType.{AstType}
use Rattle.es_tree.specs.declared.ast_type.AstType.TheVariants.{ArrowFunctionExpression, AssignmentPattern, ObjectExpression, ObjectPattern, ObjectProperty, ObjectTarget, PatternProperty, PropertyDefinition, TaggedTemplateExpression, VariableDeclaration}
use Rattle.es_tree.specs.declared.options.EnvOptions.{EnvOptions}
use Rattle.es_runs.proofs.Named.{or_both, or_first, or_second}
use Rattle.es_semantic.specs.Places.{outermost}
use Rattle.es_semantic.specs.SymbolsOf.{Declared, find, symbols_of}
use Rattle.es_semantic.proofs.CoreSymbols.{core-symbols}
use Rattle.es_valid_steps.specs.ArrowNodes.{is_arrow_accessor}
use Rattle.es_valid_arrows.specs.ArrowPlaces.{is_wrapped_slot}
use Rattle.es_conditions.specs.CoreConditions.{is_copied}
use Rattle.es_rest_shapes.specs.HelperNames.{binds_helpers}
use Rattle.es_rest_shapes.specs.RestShapes.{is_rest_declaration}
use Rattle.es_rest_shapes.proofs.NoneLeft.{declaration-rest}
use Rattle.es_unsupported.specs.FirstUnsupported.{first_of, first_unsupported}
use Rattle.es_chain_tags.specs.ChainTags.{has_chain_tag}
use Rattle.es_unsupported.specs.NodePlaces.{program_place}
use Rattle.es_unsupported.specs.Shapes.{is_unbuilt_node, shape_at}
use Rattle.es_unsupported.specs.SpreadLiterals.{has_uncopied}
use Rattle.es_unsupported.proofs.QuietStrays.{holds_stray-none}
use Rattle.es_unsupported.proofs.QuietUsing.{asks-none, clashes-none}
use Rattle.es_using_heads.specs.Heads.{asks_its_name}
use Rattle.es_using_nodes.specs.Clashes.{clashes}
use Rattle.lower_driver.specs.UnsupportedPrograms.{Finds}
use Rattle.es_helper_calls.specs.Importing.{own_call}
use Rattle.lower_driver.specs.Uses.{lowers_using}
use Rattle.lower_driver.proofs.Imported.{core-unimporting, none-refused}
use Rattle.lower_driver.proofs.Used.{unasked-off}
use Rattle.lower_driver.proofs.CoreNodes.{no-rest, no-using}
use Rattle.lower_driver.proofs.EitherTest.{fewer-in-fields}
use Rattle.lower_driver.proofs.Moved.{off-anyway}
use Rattle.lower_driver.proofs.QuietArrows.{none-of}
use Rattle.lower_driver.proofs.Stages.{finds-itself}
use Rattle.lower_command.specs.Generated.{generated, generated_statement, statement_for, start_of}
use Rattle.lower_command.proofs.GeneratedFacts.{generated-core, generated-declares}

-- WITHOUT NAMES, TEMPLATES AND LITERALS

-- a kind that is asked more than its kind
abbrev is_asked : AstType → Label → Fields → Bool
is_asked TaggedTemplateExpression l fs = true
is_asked ObjectExpression l fs = true
is_asked ObjectProperty l fs = true
is_asked ObjectPattern l fs = true
is_asked ObjectTarget l fs = true
is_asked PatternProperty l fs = true
is_asked AssignmentPattern l fs = true
is_asked PropertyDefinition l fs = true
is_asked VariableDeclaration l fs = true
is_asked ArrowFunctionExpression l fs = true
is_asked _ l fs = false

no_rest : (k : AstType) (l : Label) (fs : Fields) → is_asked k l fs ≡ false → is_object_rest k l fs ≡ false
no_rest ObjectPattern l fs h = absurd (cc h)
no_rest ObjectTarget l fs h = absurd (cc h)
no_rest _ l fs h = refl

no_literal : (k : AstType) (l : Label) (fs : Fields) → is_asked k l fs ≡ false → is_object_spread k l fs ≡ false
no_literal ObjectExpression l fs h = absurd (cc h)
no_literal _ l fs h = refl

no_copy : (k : AstType) (l : Label) (fs : Fields) → is_asked k l fs ≡ false → is_copied k l fs ≡ false
no_copy ObjectExpression l fs h = absurd (cc h)
no_copy ObjectTarget l fs h = absurd (cc h)
no_copy _ l fs h = refl

no_using : (k : AstType) (l : Label) (fs : Fields) → is_asked k l fs ≡ false → is_using k l fs ≡ false
no_using VariableDeclaration l fs h = absurd (cc h)
no_using _ l fs h = refl

no_tag : (k : AstType) (l : Label) (fs : Fields) → is_asked k l fs ≡ false → has_chain_tag k l fs ≡ false
no_tag TaggedTemplateExpression l fs h = absurd (cc h)
no_tag _ l fs h = refl

no_accessor : (k : AstType) (l : Label) (fs : Fields) → is_asked k l fs ≡ false → is_arrow_accessor k l fs ≡ false
no_accessor ObjectProperty l fs h = absurd (cc h)
no_accessor _ l fs h = refl

no_arrow : (k : AstType) (l : Label) (fs : Fields) → is_asked k l fs ≡ false → same_type k ArrowFunctionExpression ≡ false
no_arrow ArrowFunctionExpression l fs h = absurd (cc h)
no_arrow _ l fs h = refl

no_slot : (o : EnvOptions) (k : AstType) (l : Label) (fs : Fields) (parameter : Bool) (i : ℕ) (f : Field) → is_asked k l fs ≡ false → is_wrapped_slot o parameter (ancestor k l done i 0) f ≡ false
no_slot o PatternProperty l fs parameter i f h = absurd (cc h)
no_slot o AssignmentPattern l fs parameter i f h = absurd (cc h)
no_slot o PropertyDefinition l fs parameter i f h = absurd (cc h)
no_slot o _ l fs parameter i f h = refl

found_nowhere : (up : List ℕ) (x : Text) → find [] up x ≡ None
found_nowhere [] x = refl
found_nowhere (s ∷ up) x = found_nowhere up x

unbound : (a e m : Bool) → m ≡ false → (a && e && m) ≡ false
unbound true true m h = h
unbound true false m h = refl
unbound false e m h = refl

off : (a : Bool) → (a && false) ≡ false
off true = refl
off false = refl

both_off : (a b : Bool) → ((a && false) || (b && false)) ≡ false
both_off true b = off b
both_off false b = off b

-- nor a pattern with a rest inside
no_rest_inside : (fs : Fields) → any_in_fields is_asked fs ≡ false → any_in_fields is_object_rest fs ≡ false
no_rest_inside = fewer-in-fields is_object_rest is_asked no_rest

no_helper : (by_name copied bound declared binds : Bool) → copied ≡ false → declared ≡ false → (by_name && ((copied && bound) || (declared && binds))) ≡ false
no_helper by_name copied bound declared binds h g = rw (h, g) (off by_name)

-- nor a declaration with `using`
no_using_inside : (fs : Fields) → any_in_fields is_asked fs ≡ false → any_in_fields is_using fs ≡ false
no_using_inside = fewer-in-fields is_using is_asked no_using

last_off : (a b : Bool) → b ≡ false → (a && b) ≡ false
last_off true b h = h
last_off false b h = refl

module _ (o : EnvOptions) where
  built : (k : AstType) (l : Label) (fs : Fields) → is_asked k l fs ≡ false → any_in_fields is_object_rest fs ≡ false → is_unbuilt_node o k l fs ≡ false
  built k l fs h none = rw (holds_stray-none k l fs none, no_using k l fs h) (both_off (is_some o.es2018.object_rest_spread) o.es2026.explicit_resource_management)

  no_shape : (up : List ℕ) (k : AstType) (l : Label) (fs : Fields) → any_node is_asked (node k l fs) ≡ false → shape_at o [] up k l fs ≡ None
  no_shape up k l fs g =
      let h : is_asked k l fs ≡ false = or_first (is_asked k l fs) (any_in_fields is_asked fs) g in
      let none = no_rest_inside fs (or_second (is_asked k l fs) (any_in_fields is_asked fs) g) in
      let used = no_using_inside fs (or_second (is_asked k l fs) (any_in_fields is_asked fs) g) in
      rw (
        built k l fs h none,
        unbound o.es2016.exponentiation_operator (is_exponentiation k l fs) (is_some (find [] up (codes "Math"))) (ap is_some (found_nowhere up (codes "Math"))),
        no_helper (is_some o.es2018.object_rest_spread) (is_copied k l fs) (is_some (find [] up (codes "babelHelpers"))) (is_rest_declaration k l fs) (binds_helpers []) (no_copy k l fs h) (declaration-rest k l fs none),
        ap (λ b. is_some o.es2018.object_rest_spread && (b && has_uncopied (field_at 0 fs))) (no_literal k l fs h) ∙ off (is_some o.es2018.object_rest_spread),
        ap (λ b. o.es2020.optional_chaining && b) (no_tag k l fs h) ∙ off o.es2020.optional_chaining,
        last_off o.es2026.explicit_resource_management (asks_its_name k l fs) (asks-none k l fs used),
        last_off o.es2026.explicit_resource_management (clashes k fs) (clashes-none k fs used),
      ) refl

-- ANY NUMBER OF STATEMENTS

plain : (r i id : ℕ) → any_node is_asked (statement_for r i id) ≡ false
plain zero i id = refl
plain (suc zero) i id = refl
plain (suc (suc zero)) i id = refl
plain (suc (suc (suc r))) i id = refl

body_plain : (i m : ℕ) → any_in_trees is_asked (trees (map generated_statement (range_with_len i m))) ≡ false
body_plain i zero = refl
body_plain i (suc m) =
    or_both (any_node is_asked (generated_statement i)) (any_in_trees is_asked (trees (map generated_statement (range_with_len (i + 1) m)))) (plain (i % 4) i (start_of i)) (body_plain (i + 1) m)

generated-plain : (n : ℕ) → any_node is_asked (generated n) ≡ false
generated-plain n = or_both (any_in_trees is_asked (trees (map generated_statement (range_with_len 0 n)))) false (body_plain 0 n) refl

generated-symbols : (n : ℕ) → symbols_of (generated n) ≡ []
generated-symbols n = rw (generated-declares n) at (core-symbols (generated n) (generated-core n))

generated-taken : (o : EnvOptions) (n : ℕ) → first_unsupported o (generated n) ≡ None
generated-taken o n =
    let p = generated n in
    let none = none-of o [] is_asked (no_shape o) (λ k l fs h. last_off (is_some o.es2018.object_rest_spread) (is_object_rest k l fs) (no_rest k l fs h))
    (λ on k l fs g. let h = or_first (is_asked k l fs) (any_in_fields is_asked fs) g in (no_accessor k l fs h, no_arrow k l fs h))
    (λ k l fs parameter i f h g. no_slot o k l fs parameter i f h)
    (outermost p) program_place 1 p (generated-plain n) (λ on. (refl, refl)) in
    ap (λ (ds : List Declared). first_of o ds (outermost p) program_place 1 p) (generated-symbols n) ∙ none

-- and no `using` is lowered there, no pattern moves, nor is a helper imported
pub generated-finds : (o : EnvOptions) (n : ℕ) → Finds o (generated n) None
generated-finds o n =
    let core = (generated-core n).core in
    let rests = no-rest (generated n) core in
    let unused = off-anyway o.es2026.explicit_resource_management (any_node is_using (generated n)) (no-using (generated n) core) in
    finds-itself o (generated n) None unused (off-anyway (is_some o.es2018.object_rest_spread) (any_node is_object_rest (generated n)) rests) (none-refused o (lowers_using o (generated n)) (own_call o (generated n)) (generated n) (generated-taken o n) (core-unimporting o (lowers_using o (generated n)) (generated n) (unasked-off o (generated n) unused) core rests))
