use Rattle.std.proofs.Common.{◌≡◌, None, refl, sym, ap, subst, ◌∙◌, arith}
use Rattle.std.specs.List.{list_any}
use Rattle.es_scope.specs.Bindings.{bound_in}
use Rattle.es_scope.specs.Mutations.{mutated_in, referred_in, writes}
use Rattle.es_scope.specs.Outwards.{AreOutwards}
use Rattle.es_scope.proofs.Outward.{outwards-root}
use Rattle.es_scope.proofs.TableSteps.{unbound_alone}
use Rattle.es_scope.proofs.scoping.Scoping.with_root.Goals as goal

pub invariant_of-result : goal.invariant_of-result
invariant_of-result c =
    let scopes = c.in_ok-scopes.ensures.items in
    record {
      outwards = subst AreOutwards (sym scopes) (outwards-root _ refl);
      bound = λ n x m f. absurd (let no : bound_in c.in_ok-scopes.scopes.items n x ≡ None = ap (λ cs. bound_in cs n x) scopes ∙ unbound_alone _ c.new.ensures.empty n x in cc);
      written = λ n. ap (λ bs. mutated_in bs n) c.new-2.ensures.items ∙ sym (ap (λ rs. list_any (writes n) rs) c.new-3.ensures.items);
      referring = λ n m f. absurd (let no : referred_in c.new-3.result.items n ≡ None = ap (λ rs. referred_in rs n) c.new-3.ensures.items in cc);
      rooted = omega (arith, c.in_ok-scopes.ensures.len);
    }
