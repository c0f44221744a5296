-- The laws of the lowering of exports of a namespace: its rule never acts while the statements are visited, and it has no construct
-- there.
use Rattle.std.proofs.Common.{refl, sym, true≢false}
use Rattle.es_tree.specs.declared.options.EnvOptions.{EnvOptions}
use Rattle.es_changes.proofs.Lawful.{law_lawful_proof}
use Rattle.es_traverse.specs.Laws.{IsLawful, acts_inward}
use Rattle.es_row_laws.proofs.Fewer.{fewer-lawful}
use Rattle.lower_namespace_exports.specs.Profile.{namespace_profile}

pub namespace_lawful : (o : EnvOptions) → IsLawful (namespace_profile o)
namespace_lawful o = record {
  rule = fewer-lawful (λ n s x s' y h. absurd h) (law_lawful_proof o) (λ n m s s' x y a h. absurd h);
  stable = λ h n s s' k l first fs gs stand r e. refl;
  placed = λ h k l fs e. absurd (true≢false (sym e));
  own = λ h t w. refl;
  outward = acts_inward (namespace_profile o) (λ k l fs. refl) (λ n t. refl);
}
