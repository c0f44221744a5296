use Rattle.std.proofs.Common.{◌≡◌, ◌∙◌, ◌+◌, ◌*◌, ◌<◌, ◌≤◌, ◌^◌, ℕ, arith, ap, length, map, string_bytes, subst, sym}
use Rattle.std.proofs.lemmas.List.{length-map}
use Rattle.std.specs.Prelude.{Bool, true, false, not, if◌then◌else◌}
use Rattle.es_tree.specs.Capped.{capped}
use Rattle.es_tree.specs.Tree.{Tree, tree_size}
use Rattle.lower_editions.specs.Warnings.{warnings_of}
use Rattle.es_helper_calls.specs.Importing.{imports_helpers}
use Rattle.lower_driver.specs.Lowered.{IsLoweredTree}
use Rattle.lower_driver.specs.Lowers.{most_for_each, rests_there}
use Rattle.lower_driver.specs.Sets.{sets_this}
use Rattle.lower_driver.specs.Splits.{splits_exports}
use Rattle.lower_driver.specs.Uses.{lowers_using, using_there}
use Rattle.lower_command.specs.Answer.{generated_line}
use Rattle.lower_command.specs.Generated.{generated}
use Rattle.lower_command.proofs.GeneratedFacts.{generated-form, generated-kept, generated-small}
use Rattle.lower_command.proofs.generating.generated_line.Goals as goal

pub lower_tree-requires-clause-form : goal.lower_tree-requires-clause-form
lower_tree-requires-clause-form c = rw c.in_ok-read.ensures.tree (generated-form c.args.count)

pub lower_tree-requires-clause-kept : goal.lower_tree-requires-clause-kept
lower_tree-requires-clause-kept c = rw c.in_ok-read.ensures.tree (generated-kept c.args.count)

pub lower_tree-requires-clause-size : goal.lower_tree-requires-clause-size
lower_tree-requires-clause-size c = rw c.in_ok-read.ensures.tree (generated-small c.args.count c.requires)

-- 64 BITS hold the counts

uncapped : (n : ℕ) → n < 2 ^ 64 → capped n ≡ n
uncapped n small = omega (arith, small)

more-at-most : (imports : Bool) → (if imports then 36 else 0) ≤ 36
more-at-most true = omega arith
more-at-most false = omega arith

within : (sets using rests splits shares imports : Bool) (n m : ℕ) → m ≤ (if sets then 3 else 1) * (most_for_each using rests splits shares * n + (if imports then 36 else 0)) → n < 2 ^ 20 → m < 2 ^ 64
within sets using rests splits shares imports n m size small =
    let some = least using rests splits shares imports n small in
    thrice sets (most_for_each using rests splits shares * n + (if imports then 36 else 0)) size some
  where
    least : (using rests splits shares imports : Bool) (n : ℕ) → n < 2 ^ 20 → most_for_each using rests splits shares * n + (if imports then 36 else 0) < 2 ^ 33
    least true rests splits true imports n small = let more = more-at-most imports in omega (arith, small, more)
    least true rests splits false imports n small = let more = more-at-most imports in omega (arith, small, more)
    least false true true true imports n small = let more = more-at-most imports in omega (arith, small, more)
    least false true true false imports n small = let more = more-at-most imports in omega (arith, small, more)
    least false true false true imports n small = let more = more-at-most imports in omega (arith, small, more)
    least false true false false imports n small = let more = more-at-most imports in omega (arith, small, more)
    least false false splits shares imports n small = let more = more-at-most imports in omega (arith, small, more)

    thrice : (sets : Bool) (k : ℕ) → m ≤ (if sets then 3 else 1) * k → k < 2 ^ 33 → m < 2 ^ 64
    thrice true k h small = omega (arith, h, small)
    thrice false k h small = omega (arith, h, small)

pub returns-clause-line : goal.returns-clause-line
returns-clause-line c =
    let o = c.args.options.now in
    let p = generated c.args.count in
    let lowered = c.in_ok-lowered.lowered in
    let is : IsLoweredTree o p lowered = subst (λ (t : Tree). IsLoweredTree o t lowered) c.in_ok-read.ensures.tree c.in_ok-lowered.ensures.lowered in
    let small = generated-small c.args.count c.requires in
    let before : c.count_nodes-before.result ≡ tree_size p = c.count_nodes-before.ensures ∙ (ap (λ (t : Tree). capped (tree_size t)) c.in_ok-read.ensures.tree ∙ uncapped (tree_size p) (omega (arith, small))) in
    let after : capped (tree_size lowered.program) ≡ tree_size lowered.program = uncapped (tree_size lowered.program) (within (sets_this o p) (using_there o p) (rests_there o p) (splits_exports o p) _ (imports_helpers o (lowers_using o is.lowers.split) is.lowers.moved) (tree_size p) (tree_size lowered.program) is.lowers.size small) in
    let names : length lowered.temporaries.items ≡ length (map string_bytes lowered.temporaries.items) = sym (length-map lowered.temporaries.items string_bytes) in
    let warned : length lowered.warnings.items ≡ length (warnings_of o.es2020 p) = ap length is.warnings in
    record {
      written = lowered.program;
      names = map string_bytes lowered.temporaries.items;
      lowers = is.lowers;
      line_is = c.in_ok-line.ensures ∙ (λ i. generated_line c.args.count (before i) (after i) (names i) (warned i));
    }
