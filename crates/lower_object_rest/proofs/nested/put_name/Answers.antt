use Rattle.std.proofs.Common.{ap, refl, subst, sym, ◌∙◌, ◌≡◌}
use Rattle.es_tree.specs.Heads.{head_of, label}
use Rattle.es_tree.specs.Tree.{Tree, kind_of}
use Rattle.es_tree.specs.declared.ast_type.AstType.TheVariants.{AssignmentPattern}
use Rattle.es_tree.specs.declared.kind.Kind.{Kind as NodeKind}
use Rattle.es_tree.specs.declared.kind.Kind.TheVariants.{AssignmentPattern as k-AssignmentPattern}
use Rattle.es_patterns.specs.PatternsPlain.{plain_assignment_pattern}
use Rattle.es_rest_shapes.specs.RestShapes.{bears_rest, is_plain_value}
use Rattle.lower_object_rest.specs.Nested.{Puts}
use Rattle.lower_object_rest.specs.Nested.Puts.{for_pattern, with_default}
use Rattle.lower_object_rest.proofs.PatternShapes.{default-plain, value-plain}
use Rattle.lower_object_rest.proofs.nested.put_name.Goals as goal

pub returns-in_ok-with_default-in-AssignmentPattern : goal.returns-in_ok-with_default-in-AssignmentPattern
returns-in_ok-with_default-in-AssignmentPattern c =
    let x = c.open-left.result in
    let l = label x.id x.span (head_of k-AssignmentPattern) in
    record {
      plain = default-plain l x.left x.right (ap is_plain_value c.open-left.ensures ∙ c.requires.plain) (ap bears_rest c.open-left.ensures ∙ c.requires.bears);
      puts =
          subst (λ (v : Tree). Puts c.args.name x.left v c.in_ok-with_default-in-AssignmentPattern.with_default) c.open-left.ensures
          (subst (λ (u : Tree). Puts c.args.name x.left (plain_assignment_pattern x) u) (sym c.in_ok-with_default-in-AssignmentPattern.ensures) (with_default l x.right));
    }

-- no other kind of node is a pattern with a default value
other-kind : (k : NodeKind) → (k ≡ k-AssignmentPattern → ⊥) → (head_of k).kind ≡ AssignmentPattern → ⊥
other-kind k-AssignmentPattern h e = h refl
other-kind _ h e = cc

pub returns-in_default : goal.returns-in_default
returns-in_default c = record {
  plain = value-plain c.args.value (λ e. other-kind c.value.inside.kind c.in_default.not-AssignmentPattern (ap kind_of c.value.view_is ∙ e)) c.requires.plain c.requires.bears;
  puts = for_pattern;
}
