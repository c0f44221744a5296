use Rattle.std.proofs.Common.{if◌then◌else◌, sym, ap, ◌∙◌}
use Rattle.es_tree.specs.Heads.{head_of, label}
use Rattle.es_semantic.specs.RolesOf.{reads}
use Rattle.es_semantic.specs.declared.place.Role.TheVariants.{Nothing}
use Rattle.es_semantic.proofs.PlainRoles.{IsPlainFirst, first_plain}
use Rattle.es_semantic.proofs.role_in.first_role.Goals as goal

pub returns-in_default : goal.returns-in_default
returns-in_default c = λ id span fs.
    let kind = c.args.kind.now in
    let plain : IsPlainFirst kind = record {
      static_block = c.in_default.not-StaticBlock;
      declaration = c.in_default.not-VariableDeclaration;
      declarator = c.in_default.not-VariableDeclarator;
      function_declaration = c.in_default.not-FunctionDeclaration;
      function_expression = c.in_default.not-FunctionExpression;
      arrow = c.in_default.not-ArrowFunctionExpression;
      class_declaration = c.in_default.not-ClassDeclaration;
      class_expression = c.in_default.not-ClassExpression;
      for_in = c.in_default.not-ForInStatement;
      for_of = c.in_default.not-ForOfStatement;
      catch_clause = c.in_default.not-CatchClause;
      import_default = c.in_default.not-ImportDefaultSpecifier;
      import_namespace = c.in_default.not-ImportNamespaceSpecifier;
      export_named = c.in_default.not-ExportNamedDeclaration;
      export_specifier = c.in_default.not-ExportSpecifier;
      export_default = c.in_default.not-ExportDefaultDeclaration;
      update = c.in_default.not-UpdateExpression;
      assignment = c.in_default.not-AssignmentExpression;
      parentheses = c.in_default.not-ParenthesizedExpression;
      object_pattern = c.in_default.not-ObjectPattern;
      array_pattern = c.in_default.not-ArrayPattern;
      assignment_pattern = c.in_default.not-AssignmentPattern;
      rest_element = c.in_default.not-RestElement;
      object_target = c.in_default.not-ObjectTarget;
      array_target = c.in_default.not-ArrayTarget;
      target_default = c.in_default.not-TargetWithDefault;
      target_rest = c.in_default.not-TargetRest;
    } in
    c.name_role.ensures ∙ ap (λ b. if b then reads else Nothing) (c.is_first_name.ensures id span) ∙ sym (first_plain c.args.role kind (label id span (head_of kind)) fs plain)
