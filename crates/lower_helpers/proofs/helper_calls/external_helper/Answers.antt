use Rattle.std.proofs.Common.{◌≡◌, ◌+◌, ◌∷◌, [], ◌∙◌, None, ap, arith, codes, false, refl, subst, sym}
use Rattle.es_scope.specs.Contexts.{scope_at, table_of}
use Rattle.es_scope.specs.Tables.{Finds, reference_count}
use Rattle.es_tree.specs.Heads.{symbol}
use Rattle.es_tree.specs.Helpers.{helper_text}
use Rattle.es_tree.specs.Tree.{node, done, ◌then◌, one}
use Rattle.es_tree.specs.declared.ast_type.AstType.TheVariants.{MemberExpression}
use Rattle.lower_helpers.specs.HelperNodes.{external_node, made, name_node}
use Rattle.lower_helpers.specs.Loading.{LoadsHelper, external}
use Rattle.lower_helpers.proofs.helper_calls.external_helper.Goals as goal

pub returns : goal.returns
returns g c =
    let old = c.args.ctx.now in
    let n = old.ast.next in
    let found = symbol c.find_binding-symbol.result in
    let object = c.in_ok-object.ensures in
    let name : c.in_ok-property.property ≡ name_node (n + 1) (helper_text c.args.helper) None None =
    c.in_ok-property.ensures.made
    ∙ (λ i. name_node (ap (λ a. a.next) object.refers.ast i) ((c.in_ok-name.ensures.ok ∙ c.name.ensures) i) None None) in
    let id : c.new_identifier.new.ast.next ≡ n + 2 = omega (arith, ap (λ a. a.next) object.refers.ast, c.in_ok-property.ensures.counted) in
    let whole : c.in_ok-node.node ≡ external_node n (reference_count (table_of old)) found c.args.helper =
    c.in_ok-node.ensures.made ∙ (λ i. node MemberExpression (made (id i) [] (false ∷ false ∷ []) []) (one (object.node i) then one (name i) then done)) in
    let kept = object.refers.kept in
    let finds = subst (λ s. Finds s (codes "babelHelpers") (scope_at old) found) c.scoping.ensures
    (subst (λ n. Finds c.scoping.result.now (codes "babelHelpers") n found) c.current_scope_id-scope.ensures.scope c.find_binding-symbol.ensures.found) in
    record {
      read = λ stores mode. subst (LoadsHelper c.args.helper 0 stores stores old _) (sym whole)
          (external mode refl finds
          (record { used = object.refers.names.used; made_is = object.refers.names.made_is })
          (record {
            refers = object.refers.table;
            next = omega (arith, ap (λ a. a.next) object.refers.ast, c.in_ok-property.ensures.counted, c.in_ok-node.ensures.counted);
            kept = record { state = kept.state; options = kept.options; around = kept.around; scopes = kept.scopes; place = kept.place };
          }));
    }
