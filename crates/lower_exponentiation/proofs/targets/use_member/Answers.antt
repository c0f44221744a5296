use Rattle.std.proofs.Common.{◌≡◌, ◌∙◌, refl, sym, ap, arith, subst, map}
use Rattle.std.proofs.lemmas.List.{map-append}
use Rattle.std.specs.Prelude.{Bool, List, not, [], true}
use Rattle.es_tree.specs.Tree.{label_of}
use Rattle.es_expressions.specs.MembersPlain.{plain_member_expression}
use Rattle.es_resolution.specs.Seen.{seen}
use Rattle.es_runs.specs.Rules.{member_node}
use Rattle.lower_temporaries.specs.SeenTrees.{no_bindings}
use Rattle.lower_temporaries.proofs.Takings.{reads-ids}
use Rattle.lower_exponentiation.proofs.SeenParts.{evaluated-seen, expression-seen}
use Rattle.lower_temporaries.proofs.Later.{there-moved}
use Rattle.lower_exponentiation.proofs.TargetParts.{plain_flags, used_member}
use Rattle.lower_exponentiation.specs.Exponentiations.{has_exponentiation_key, is_evaluated_key, is_expression_key}
use Rattle.lower_exponentiation.specs.Targets.{UsesObject}
use Rattle.lower_exponentiation.proofs.targets.use_member.Goals as goal

pub returns : goal.returns
returns c names =
    let m = c.args.member in
    let old = c.args.ctx.now in
    let mid = c.use_object.new.ctx in
    let objects = c.in_ok-objects.objects in
    let keys = c.in_ok-keys.keys in
    let joined = c.in_ok-used.ensures in
    let property = seen names m.property in
    let evaluated : c.is_evaluated_key-by_name.result ≡ is_evaluated_key m.computed property = c.is_evaluated_key-by_name.ensures ∙ sym (evaluated-seen names m.computed m.property) in
    let expression : c.is_expression_key-is_expression.result ≡ is_expression_key m.computed property = c.is_expression_key-is_expression.ensures ∙ sym (expression-seen names m.computed m.property) in
    let held = subst (λ (b : Bool). UsesObject (not b) old mid (seen names m.object) (map (seen names) objects.first.items) (seen names objects.written) (seen names objects.read)) evaluated (c.in_ok-objects.ensures names) in
    used_member old mid c.use_key.new.ctx _ (is_evaluated_key m.computed property) m.computed (is_expression_key m.computed property) (record (label_of (plain_member_expression m)) { id = 0; marks = [] }) (seen names m.object) property (map (seen names) objects.first.items) (map (seen names) keys.first.items) _
    (seen names objects.written) (seen names objects.read) (seen names keys.written) (seen names keys.read) _ _ (plain_flags m.computed m.optional m.property c.requires.target) held (c.in_ok-keys.ensures names)
    (reads-ids 2 c.use_key.new.ctx _ joined.counted refl (record { used = λ x. refl; made_is = refl }) (record { state = refl; options = refl; around = refl; scopes = refl; place = refl }))
    (ap (map (seen names)) joined.first ∙ map-append (seen names) objects.first.items keys.first.items) (joined.written names ∙ ap (λ (b : Bool). member_node b (seen names objects.written) (seen names keys.written)) expression) (joined.read names ∙ ap (λ (b : Bool). member_node b (seen names objects.read) (seen names keys.read)) expression)

pub use_key-requires : goal.use_key-requires
use_key-requires c =
    let m = c.args.member in
    let used = c.in_ok-objects.ensures no_bindings in
    record {
      key = subst (λ (flags : List Bool). has_exponentiation_key flags m.property ≡ true) (plain_flags m.computed m.optional m.property c.requires.target) c.requires.target;
      there = there-moved c.args.ctx.now c.use_object.new.ctx used.takes c.requires.there;
      room = omega (arith, used.takes.next_is, used.few);
    }

pub join-requires : goal.join-requires
join-requires c =
    let objects = c.in_ok-objects.ensures no_bindings in
    let keys = c.in_ok-keys.ensures no_bindings in
    record { room = omega (arith, objects.takes.next_is, objects.few, keys.takes.next_is, keys.few) }
