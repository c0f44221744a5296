-- A declarator that splits in an exported declaration breaks a rule: the example holds.
use Rattle.std.proofs.Common.{refl}
use Rattle.std.specs.Prelude.{[], ◌∷◌, codes}
use Rattle.es_tree.specs.Fresh.{IsFreshName, node_base}
use Rattle.es_tree.specs.Tree.{empty, trees}
use Rattle.es_steps.specs.Nodes.{declaration_node, declarator_with, identifier, made, word}
use Rattle.es_steps.specs.ObjectRest.Declares.{lexically}
use Rattle.es_steps.specs.ObjectRest.SplitRule.{splits}
use Rattle.es_steps.specs.ObjectRest.SplitsOff.{source}
use Rattle.es_steps.specs.Rules.{with_made}
use Rattle.es_steps.specs.Steps.{Whole, acts, inside, in_first, in_later, in_child, in_program, in_head, in_tail, stays, goes}
use Rattle.es_valid_rests.specs.Examples.{rest_pattern}
use Rattle.es_valid_rests.specs.ExportExamples.{LawExportedRest, SplitBreaks, temporary}

split-breaks : (w : Whole) → IsFreshName w.in_use (node_base (word (codes "c"))) (codes "_c") → SplitBreaks w
split-breaks w f = record {
  left = with_made (temporary w ∷ []) w;
  step =
      goes (inside (in_later (in_first (in_program refl (in_tail (in_head (inside (in_first (in_child
      (acts (declaration_node (codes "const") (declarator_with rest_pattern (word (codes "c")) ∷ [])) (declaration_node (codes "const") (declarator_with (identifier (temporary w)) (word (codes "c")) ∷ declarator_with rest_pattern (identifier (temporary w)) ∷ []))
      (splits _ empty empty (declarator_with rest_pattern (word (codes "c"))) (trees (declarator_with (identifier (temporary w)) (word (codes "c")) ∷ declarator_with rest_pattern (identifier (temporary w)) ∷ [])) (codes "_c") f.free (lexically refl) (source (made [] []) rest_pattern (word (codes "c")) refl f (λ v. refl)))))))))))))
      stays;
  formed = refl;
  exports = refl;
  broken = refl;
}

pub law_exported_rest_proof : LawExportedRest
law_exported_rest_proof = record { formed = refl; kept = refl; splits = split-breaks }
