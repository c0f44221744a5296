-- What the lowerings make of a module is a module, and of a script a script.
use Rattle.std.proofs.Common.{◌≡◌, refl, sym, ap, ◌∙◌}
use Rattle.std.specs.Prelude.{bytes_eq, codes}
use Rattle.es_tree.specs.Bare.{bare}
use Rattle.es_tree.specs.Names.{first_text}
use Rattle.es_tree.specs.Tree.{Tree, kind_of, node}
use Rattle.es_helper_calls.specs.Importing.{is_module}
use Rattle.es_resolution.specs.Laws.{source}
use Rattle.es_steps.specs.AllRules.{AllRules}
use Rattle.es_steps.proofs.BridgeInclusion.{all_under}
use Rattle.es_steps.proofs.Opened.{finished-opened}
use Rattle.es_lowered.specs.Lowered.{part_rules}
use Rattle.es_reached.proofs.Results.{program-kind, source-form}
use Rattle.es_reached.proofs.Sources.{law_bare_source_proof}
use Rattle.es_top_names.specs.TopNames.{LawSameSort}
use Rattle.es_top_names.proofs.RootRules.{all-off, parts-all}
use Rattle.es_top_names.proofs.RootSteps.{root-steps}

module-bare : (t : Tree) → is_module (bare t) ≡ is_module t
module-bare (node k l fs) = refl

-- of trees that are equal but for ids and marks
modules-alike : (t u : Tree) → bare t ≡ bare u → is_module u ≡ is_module t
modules-alike t u same = sym (module-bare u) ∙ ap is_module (sym same) ∙ module-bare t

pub law_same_sort_proof : LawSameSort
law_same_sort_proof o p q names form right h =
    let start : Tree = source p in
    let program = ap kind_of (finished-opened start) ∙ program-kind start (source-form p form) in
    let root = root-steps (AllRules o) (all-off o) program (all_under (part_rules o) (AllRules o) (parts-all o) h.parts.reached.steps) in
    let steps : is_module h.parts.resolved ≡ is_module start = sym (ap is_module (finished-opened h.parts.resolved)) ∙ ap (λ l. bytes_eq (first_text l.texts) (codes "module")) root.label ∙ ap is_module (finished-opened start) in
    modules-alike h.parts.resolved q h.parts.written ∙ steps ∙ modules-alike p start (sym (law_bare_source_proof p))
