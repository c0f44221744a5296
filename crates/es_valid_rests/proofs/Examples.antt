-- The examples of object rests hold.
use Rattle.std.proofs.Common.{◌≡◌, refl, inl, inr, [], ◌∷◌}
use Rattle.std.specs.Prelude.{◌&&◌, ◌||◌, Bool, true, false, Some, bytes_eq, codes}
use Rattle.es_tree.specs.Fresh.{IsFreshName, node_base}
use Rattle.es_tree.specs.Tree.{Tree, done, ◌then◌, one, empty, ◌before◌, label_of}
use Rattle.es_semantic.specs.RolesOf.{reads}
use Rattle.es_resolution.specs.Declarations.{declared}
use Rattle.es_steps.specs.CatchPatterns.CatchRest.{moves}
use Rattle.es_steps.specs.Nodes.{block_node, declarator_with, identifier, joined_trees, made, word}
use Rattle.es_steps.specs.ObjectRest.Declares.{lexically}
use Rattle.es_steps.specs.ObjectRest.SplitRule.{splits}
use Rattle.es_steps.specs.ObjectRest.SplitsOff.{nested, source}
use Rattle.es_steps.specs.ObjectRest.RestOf.{alone as rest_alone, mapped}
use Rattle.es_steps.specs.ObjectRest.IsKey.{name_key}
use Rattle.es_steps.specs.ObjectRest.TakesRest.{takes_rest}
use Rattle.es_steps.specs.ParameterPatterns.{MayMove}
use Rattle.es_steps.specs.ParameterPatterns.HoldsPattern.{alone}
use Rattle.es_steps.specs.ParameterPatterns.IsFunctionName.{named}
use Rattle.es_steps.specs.ParameterPatterns.MovesParameter.{moves_one}
use Rattle.es_steps.specs.ParameterPatterns.ParameterRest.{in_declaration}
use Rattle.es_steps.specs.Laws.{nothing_beside}
use Rattle.es_steps.specs.Open.{opened}
use Rattle.es_steps.specs.Rules.{with_made}
use Rattle.es_steps.specs.Steps.{Whole, the_program, Step}
use Rattle.es_steps.specs.Steps.FieldStep.{in_child, in_program}
use Rattle.es_steps.specs.Steps.FieldsStep.{in_first, in_later}
use Rattle.es_steps.specs.Steps.Step.{acts, inside}
use Rattle.es_steps.specs.Steps.Steps.{goes, stays}
use Rattle.es_steps.specs.Steps.TreesStep.{in_head}
use Rattle.es_tree.specs.declared.ast_type.AstType.TheVariants.{CatchClause, VariableDeclaration}
use Rattle.es_tree.specs.Tree.{Trees, many, node, trees}
use Rattle.es_steps.specs.Patterns.{holds_rest, let_statement}
use Rattle.es_valid_rests.specs.Examples.{Leads, LawRestExamples, called_with_rest, caught, caught_by_name, computed_property, copied_whole, declared_alone, declared_computed, defaulted, mapped_keys, moved_with_default, parameter_moved, program_of, rest_members, rest_pattern, the_ref, the_rest, the_source, use_of_rest, with_default, with_parameter}
use Rattle.es_steps.specs.ObjectRest.{SplitRule, declares_as, pattern_node}
use Rattle.es_valid_rests.specs.RestRules.{RestPart, all_declare}

catch-steps : (w : Whole) → IsFreshName w.in_use (codes "ref") (codes "_ref") → Leads RestPart w (the_ref w) caught (caught_by_name w)
catch-steps w f =
    let before_it : Tree = node CatchClause (made [] []) (one rest_pattern then one use_of_rest then done) in
    let after_it : Tree = node CatchClause (made [] []) (one (identifier (the_ref w)) then one (block_node (trees (let_statement rest_pattern (the_ref w) ∷ use_of_rest ∷ []))) then done) in
    goes (inside (in_later (in_first (in_program refl (in_head (inside (in_later (in_first (in_child (acts before_it after_it (inr (inr (inl (moves refl f)))))))))))))) stays

and-true : (b : Bool) → b ≡ true → (b && true) ≡ true
and-true true e = refl
and-true false e = e

-- the body declares none of the names of the pattern
may-move : (w : Whole) → w.in_use (codes "a") ≡ true → w.in_use (codes "b") ≡ true → MayMove w rest_pattern (identifier (the_ref w)) empty empty empty (trees (called_with_rest ∷ []))
may-move w a b = record {
  earlier = tt;
  later = tt;
  own_default = tt;
  body = ((tt, tt), ((((tt, tt), (((tt, tt), tt), (((and-true (w.in_use (codes "a")) a, tt), tt), tt))), (((tt, tt), (((and-true (w.in_use (codes "b")) b, tt), tt), tt)), tt)), tt));
  form = refl;
}

parameter-steps : (w : Whole) → IsFreshName w.in_use (codes "ref") (codes "_ref") → w.in_use (codes "a") ≡ true → w.in_use (codes "b") ≡ true → Leads RestPart w (the_ref w) (program_of (codes "script") (with_parameter ∷ [])) (program_of (codes "script") (parameter_moved w ∷ []))
parameter-steps w f a b =
    let moved = moves_one empty empty empty empty (trees (called_with_rest ∷ [])) (made [] []) rest_members rest_pattern (identifier (the_ref w)) refl refl alone (may-move w a b) in
    goes (inside (in_later (in_first (in_program refl (in_head (acts with_parameter (parameter_moved w) (inr (inr (inr (inr (inr (in_declaration f named moved)))))))))))) stays

silent-word : (v : Bool) → declared v reads (word (codes "s")) ≡ []
silent-word true = refl
silent-word false = refl

-- the source of a pattern with a rest is stored, and the rest taken
module _ (w : Whole) (f : IsFreshName w.in_use (node_base (word (codes "s"))) (codes "_s")) (used : w.in_use (codes "babelHelpers") ≡ true) where
  abbrev it : Tree
  it = identifier (the_source w)

  abbrev stored_source : Tree
  stored_source = declarator_with it (word (codes "s"))

  abbrev let_node : Trees → Tree
  let_node ds = node VariableDeclaration (made (Some (codes "let") ∷ []) []) (many ds then done)

  abbrev with_rest : Trees → Tree
  with_rest ps = pattern_node (made [] []) (joined_trees ps (the_rest before empty))

  store-step : (ps : Trees) → holds_rest (with_rest ps) ≡ true → all_declare (declares_as (made [] []) (with_rest ps) it before empty) ≡ true → Step RestPart the_program (nothing_beside w) (opened (program_of (codes "script") (let_node (declarator_with (with_rest ps) (word (codes "s")) before empty) ∷ []))) (nothing_beside (with_made (the_source w ∷ []) w)) (opened (program_of (codes "script") (let_node (stored_source before declares_as (made [] []) (with_rest ps) it before empty) ∷ [])))
  store-step ps holds binds =
      let stored = splits (made (Some (codes "let") ∷ []) []) empty empty _ _ (codes "_s") f.free (lexically refl) (source (made [] []) (with_rest ps) (word (codes "s")) holds f silent-word) in
      inside (in_later (in_first (in_program refl (in_head (acts (let_node (declarator_with (with_rest ps) (word (codes "s")) before empty)) (let_node (stored_source before declares_as (made [] []) (with_rest ps) it before empty)) (inl (stored, binds)))))))

  still-used : (with_made (the_source w ∷ []) w).in_use (codes "babelHelpers") ≡ true
  still-used = λ i. used i || bytes_eq (codes "_s") (codes "babelHelpers")

  copy-steps : Leads RestPart w (the_source w) (program_of (codes "script") (declared_alone ∷ [])) (program_of (codes "script") (copied_whole w ∷ []))
  copy-steps =
      let l = made [] [] in
      let taken = takes_rest (made (Some (codes "let") ∷ []) []) l l l (label_of it) (stored_source before empty) empty empty (word (codes "b")) rest_alone refl still-used in
      goes (store-step empty refl refl) (goes (inside (in_later (in_first (in_program refl (in_head (acts (let_node (stored_source before declares_as l (with_rest empty) it before empty)) (copied_whole w) (inr (inl (taken, refl))))))))) stays)

  map-steps : Leads RestPart w (the_source w) (program_of (codes "script") (declared_computed ∷ [])) (program_of (codes "script") (mapped_keys w ∷ []))
  map-steps =
      let l = made [] [] in
      let ps : Trees = computed_property before empty in
      let key = name_key l l (made [] (false ∷ true ∷ [])) (label_of (word (codes "k"))) (stored_source before empty) empty empty (the_rest before empty) (word (codes "a")) it refl refl in
      let taken = takes_rest (made (Some (codes "let") ∷ []) []) l l l (label_of it) (stored_source before empty) ps empty (word (codes "b")) (mapped (word (codes "k") ∷ []) (key, tt)) refl still-used in
      goes (store-step ps refl refl) (goes (inside (in_later (in_first (in_program refl (in_head (acts (let_node (stored_source before declares_as l (with_rest ps) it before empty)) (mapped_keys w) (inr (inl (taken, refl))))))))) stays)

default-steps : (w : Whole) → IsFreshName w.in_use (codes "ref") (codes "_ref") → Leads SplitRule w (the_ref w) (program_of (codes "script") (defaulted ∷ [])) (program_of (codes "script") (moved_with_default w ∷ []))
default-steps w f =
    let off = nested (made [] []) (made [] []) (made [] (false ∷ false ∷ [])) _ empty empty (one (word (codes "k"))) with_default refl f in
    goes (inside (in_later (in_first (in_program refl (in_head (acts defaulted (moved_with_default w) (splits _ empty empty _ _ (codes "_ref") f.free (lexically refl) off))))))) stays

pub law_rest_examples_proof : LawRestExamples
law_rest_examples_proof = record {
  catches = λ w f. record { formed = refl; kept = refl; steps = catch-steps w f; formed_after = refl; kept_after = refl };
  parameters = λ w f a b. record { formed = refl; kept = refl; steps = parameter-steps w f a b; formed_after = refl; kept_after = refl };
  copies = λ w f used. record { formed = refl; kept = refl; steps = copy-steps w f used; formed_after = refl; kept_after = refl };
  maps = λ w f used. record { formed = refl; kept = refl; steps = map-steps w f used; formed_after = refl; kept_after = refl };
  stays = λ w. record { formed = refl; kept = refl; broken = refl };
  defaults = λ w f. record { formed = refl; kept = refl; steps = default-steps w f; lost = refl; refused = refl };
}
