use Rattle.std.proofs.Common.{sym, ap, ◌∙◌}
use Rattle.es_tree.specs.Heads.{head_of, label}
use Rattle.es_tree.specs.Names.{first_text}
use Rattle.es_scope.specs.Tables.{reference_count}
use Rattle.es_semantic.proofs.Identifiers.{head_other, identifier_referred, label_with, other_none, scope_marks}
use Rattle.es_semantic.proofs.referring.mark_kind.Goals as goal

pub returns-in_ok-marks-in-Identifier-clause-referred : goal.returns-in_ok-marks-in-Identifier-clause-referred
returns-in_ok-marks-in-Identifier-clause-referred c = λ p rows ds span stands names chain.
    let name = c.as_str.ensures.value ∙ sym (ap (λ k. first_text (head_of k).texts) c.in-Identifier.is) in
    identifier_referred c.args.scoping.now c.mark_identifier.new.scoping ds p _ (label c.args.node span (head_of c.args.kind.now)) c.as_str.result.now (ap (λ k. (head_of k).kind) c.in-Identifier.is) name (c.in_ok-marks-in-Identifier.ensures.referred p rows ds stands names chain)

pub returns-in_default-clause-marked : goal.returns-in_default-clause-marked
returns-in_default-clause-marked c = λ p rows ds n fs span stands names chain own.
    let said = label c.args.node span (head_of c.args.kind.now) in
    let marks = scope_marks ds p n (reference_count c.args.scoping.now) _ said fs c.args.own (head_other c.args.kind.now c.in_default.not-Identifier) own in
    label_with c.args.node span (head_of c.mark_scope.new.kind) (head_of c.args.kind.now) _ c.mark_scope.ensures.texts c.mark_scope.ensures.flags (c.mark_scope.ensures.marks ∙ marks)

pub returns-in_default-clause-referred : goal.returns-in_default-clause-referred
returns-in_default-clause-referred c = λ p rows ds span stands names chain.
    other_none c.args.scoping.now ds p _ _ (head_other c.args.kind.now c.in_default.not-Identifier)
