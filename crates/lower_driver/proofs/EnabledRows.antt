-- A node that is no construct that options ask to lower is none of each row.
use Rattle.std.proofs.Common.{◌≡◌}
use Rattle.std.specs.Prelude.{Bool, true, false, ◌&&◌, ◌||◌, is_some}
use Rattle.es_tree.specs.Constructs.{is_arrow, is_chain, is_enabled_construct, is_enabled_expression, is_enabled_statement, is_exponentiation, is_logical_assignment, is_namespace_export, is_nullish_coalescing, is_object_rest, is_object_spread, is_optional_catch, is_using}
use Rattle.es_tree.specs.Tree.{Label, Fields}
use Rattle.es_tree.specs.declared.ast_type.AstType.{AstType}
use Rattle.es_tree.specs.declared.options.EnvOptions.{EnvOptions}
use Rattle.es_runs.proofs.Named.{or_first, or_second}

first-off : (on spread rest : Bool) → (on && (spread || rest)) ≡ false → (on && spread) ≡ false
first-off true spread rest h = or_first spread rest h
first-off false spread rest h = h

second-off : (on spread rest : Bool) → (on && (spread || rest)) ≡ false → (on && rest) ≡ false
second-off true spread rest h = or_second spread rest h
second-off false spread rest h = h

pub record IsNone (o : EnvOptions) (k : AstType) (l : Label) (fs : Fields) : Type 0 where
  pub power : (o.es2016.exponentiation_operator && is_exponentiation k l fs) ≡ false
  pub nullish : (o.es2020.nullish_coalescing_operator && is_nullish_coalescing k l fs) ≡ false
  pub chain : (o.es2020.optional_chaining && is_chain k l fs) ≡ false
  pub logical : (o.es2021.logical_assignment_operators && is_logical_assignment k l fs) ≡ false
  pub spread : (is_some o.es2018.object_rest_spread && is_object_spread k l fs) ≡ false
  pub rest : (is_some o.es2018.object_rest_spread && is_object_rest k l fs) ≡ false
  pub arrow : (is_some o.es2015.arrow_function && is_arrow k l fs) ≡ false
  pub catch : (o.es2019.optional_catch_binding && is_optional_catch k l fs) ≡ false
  pub export : (o.es2020.export_namespace_from && is_namespace_export k l fs) ≡ false
  pub using : (o.es2026.explicit_resource_management && is_using k l fs) ≡ false

pub none-of-rows : (o : EnvOptions) (k : AstType) (l : Label) (fs : Fields) → is_enabled_construct o k l fs ≡ false → IsNone o k l fs
none-of-rows o k l fs h =
    let power = o.es2016.exponentiation_operator && is_exponentiation k l fs in
    let nullish = o.es2020.nullish_coalescing_operator && is_nullish_coalescing k l fs in
    let chain = o.es2020.optional_chaining && is_chain k l fs in
    let logical = o.es2021.logical_assignment_operators && is_logical_assignment k l fs in
    let copies = is_some o.es2018.object_rest_spread && (is_object_spread k l fs || is_object_rest k l fs) in
    let arrow = is_some o.es2015.arrow_function && is_arrow k l fs in
    let catches = o.es2019.optional_catch_binding && is_optional_catch k l fs in
    let exports = o.es2020.export_namespace_from && is_namespace_export k l fs in
    let using = o.es2026.explicit_resource_management && is_using k l fs in
    let expression : is_enabled_expression o k l fs ≡ false = or_first (is_enabled_expression o k l fs) (is_enabled_statement o k l fs) h in
    let statement : is_enabled_statement o k l fs ≡ false = or_second (is_enabled_expression o k l fs) (is_enabled_statement o k l fs) h in
    let before_arrow = or_first (power || nullish || chain || logical || copies) arrow expression in
    let before_copies = or_first (power || nullish || chain || logical) copies before_arrow in
    let before_logical = or_first (power || nullish || chain) logical before_copies in
    let before_chain = or_first (power || nullish) chain before_logical in
    let copy = or_second (power || nullish || chain || logical) copies before_arrow in
    let before_using = or_first (catches || exports) using statement in
    record {
      power = or_first power nullish before_chain;
      nullish = or_second power nullish before_chain;
      chain = or_second (power || nullish) chain before_logical;
      logical = or_second (power || nullish || chain) logical before_copies;
      spread = first-off (is_some o.es2018.object_rest_spread) (is_object_spread k l fs) (is_object_rest k l fs) copy;
      rest = second-off (is_some o.es2018.object_rest_spread) (is_object_spread k l fs) (is_object_rest k l fs) copy;
      arrow = or_second (power || nullish || chain || logical || copies) arrow expression;
      catch = or_first catches exports before_using;
      export = or_second catches exports before_using;
      using = or_second (catches || exports) using statement;
    }
