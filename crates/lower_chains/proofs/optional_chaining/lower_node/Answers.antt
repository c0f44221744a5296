use Rattle.std.proofs.Common.{◌∙◌, refl, sym}
use Rattle.lower_chains.specs.Hooks.LowersNode.{as_chain, as_delete, as_it_was}
use Rattle.lower_chains.proofs.SeenSpines.{calls-seen, deletes-seen, marked_chain-seen}
use Rattle.lower_chains.proofs.optional_chaining.lower_node.Goals as goal

pub returns-in_ok-made : goal.returns-in_ok-made
returns-in_ok-made c = λ names. as_chain (marked_chain-seen names c.args.node ∙ sym c.is_marked_chain.ensures ∙ c.if-is_marked_chain.true) (c.in_ok-made.ensures names)

pub returns-in_ok-made-2 : goal.returns-in_ok-made-2
returns-in_ok-made-2 c = λ names. as_delete (deletes-seen names c.args.node ∙ sym c.deletes_chain.ensures ∙ c.if-deletes_chain.true) (c.in_ok-made-2.ensures names)

pub returns-else-calls_chain : goal.returns-else-calls_chain
returns-else-calls_chain c = λ names.
    as_it_was (marked_chain-seen names c.args.node ∙ sym c.is_marked_chain.ensures ∙ c.if-is_marked_chain.false) (deletes-seen names c.args.node ∙ sym c.deletes_chain.ensures ∙ c.if-deletes_chain.false) (calls-seen names c.args.node ∙ sym c.calls_chain.ensures ∙ c.if-calls_chain.false) refl refl
