use Rattle.std.proofs.Common.{◌∙◌, ap, arith, sym}
use Rattle.es_expressions.specs.MembersPlain.{plain_call_expression}
use Rattle.es_resolution.specs.Seen.{seen, seen_among}
use Rattle.es_traverse.specs.Loads.{load}
use Rattle.es_tree.specs.Tree.{label_of, trees}
use Rattle.lower_temporaries.specs.Parenthesized.{first_child}
use Rattle.lower_chains.specs.Hooks.LowersNode.{as_call}
use Rattle.lower_chains.specs.Spines.{has_chain, is_plain_call}
use Rattle.lower_chains.proofs.SeenSpines.{chain-seen}
use Rattle.lower_chains.proofs.Shapes.{right}
use Rattle.lower_chains.proofs.optional_chaining.lower_called.Goals as goal

pub lower_inside-requires-clause-chain : goal.lower_inside-requires-clause-chain
lower_inside-requires-clause-chain c = ap (λ t. has_chain (first_child t)) c.open-optional.ensures ∙ right (is_plain_call c.args.node) (has_chain (first_child c.args.node)) c.requires.calls

pub lower_inside-requires-clause-room : goal.lower_inside-requires-clause-room
lower_inside-requires-clause-room c = let whole = ap load c.open-optional.ensures in omega (arith, whole, c.requires.room)

pub returns : goal.returns
returns c = λ names.
    let e = c.open-optional.result in
    let chain = ap (λ t. has_chain (first_child t)) c.open-optional.ensures ∙ right (is_plain_call c.args.node) (has_chain (first_child c.args.node)) c.requires.calls in
    as_call (record {
      l = label_of (seen names (plain_call_expression e));
      callee = seen names e.callee;
      made_of = seen names c.in_ok-callee.callee;
      arguments = seen_among names (trees e.arguments.items);
      chain = chain-seen names e.callee ∙ chain;
      inside = c.in_ok-callee.ensures names;
      before = ap (seen names) (sym c.open-optional.ensures);
      after = ap (seen names) c.in_ok-made.ensures;
    })
