use Rattle.std.proofs.Common.{if◌then◌else◌, sym, ap, ◌∙◌}
use Rattle.es_tree.specs.Heads.{head_of, label}
use Rattle.es_tree.specs.Views.{plain_fields}
use Rattle.es_semantic.specs.RolesOf.{reads}
use Rattle.es_semantic.specs.declared.place.Role.TheVariants.{Nothing}
use Rattle.es_semantic.proofs.PlainRoles.{IsPlainSecond, second_plain}
use Rattle.es_semantic.proofs.role_in.second_role.Goals as goal

pub returns-in_default : goal.returns-in_default
returns-in_default c =
    let a = c.node.inside in
    let plain : IsPlainSecond a.kind = record {
      program = c.in_default.not-Program;
      function_declaration = c.in_default.not-FunctionDeclaration;
      function_expression = c.in_default.not-FunctionExpression;
      function_body = c.in_default.not-FunctionBody;
      method = c.in_default.not-MethodDefinition;
      import_specifier = c.in_default.not-ImportSpecifier;
      export_named = c.in_default.not-ExportNamedDeclaration;
      pattern_property = c.in_default.not-PatternProperty;
      target_property = c.in_default.not-TargetProperty;
      array_pattern = c.in_default.not-ArrayPattern;
      array_target = c.in_default.not-ArrayTarget;
    } in
    rw (← c.node.view_is)
    (c.name_role-in_default.ensures ∙ ap (λ b. if b then reads else Nothing) (c.is_second_name.ensures a.id a.span) ∙ sym (second_plain c.args.role a.kind (label a.id a.span (head_of a.kind)) (plain_fields a.fields.items) plain))
