use Rattle.std.proofs.Common.{◌≡◌, ℕ, ◌++◌, ◌∷◌, ◌||◌, [], None, Some, if◌then◌else◌, List, length, sym, ap, ◌∙◌}
use Rattle.es_tree.specs.Heads.{head_of, scope}
use Rattle.es_tree.specs.Tree.{fields_of, kind_of, label_of}
use Rattle.es_scope.specs.Tables.{scope_count}
use Rattle.es_semantic.specs.Places.{Visit, around_own, has_name_scope, is_strict_by_itself, is_strict_in, makes_scope, visit}
use Rattle.es_semantic.specs.ScopesOf.{ScopeRow, name_scope_flags, scope_flags}
use Rattle.es_semantic.proofs.AddedVisits.{Holds-opened, name_scope-is, own_around, own_scope-is}
use Rattle.es_semantic.proofs.scopes_added.open_scopes.Goals as goal

pub returns-clause-opened : goal.returns-clause-opened
returns-clause-opened c = λ p rows ds stands holds.
    let k = kind_of c.args.node.now in let l = label_of c.args.node.now in let fs = fields_of c.args.node.now in
    let n = length rows in
    let v : Visit = visit p n k l fs in
    let strict : c.args.strict ≡ is_strict_in p k l fs = c.requires.strict ∙ ap (λ b. b || is_strict_by_itself k l fs) stands.strict in
    let kind : (head_of c.node.inside.kind).kind ≡ k = ap kind_of c.node.view_is in
    let name : scope c.in_ok-name.name ≡ (if has_name_scope k fs then Some n else None) =
    c.in_ok-name.ensures.number ∙ (ap (λ b. if b then Some (scope_count c.args.scoping.now) else None) c.has_name_scope.ensures ∙ ap (λ m. if has_name_scope k fs then Some m else None) holds.all_scopes) in
    let around : List ℕ = around_own p.around n k fs in
    let outer : List ℕ = if has_name_scope k fs then p.around else stands.outer in
    let own : around ≡ c.unwrap_or-up.result.0 ∷ outer =
    own_around p.around stands.outer c.args.place.scope c.in_ok-name.name n k fs stands.around name ∙ ap (λ s. s.0 ∷ outer) (sym c.unwrap_or-up.ensures) in
    let names : List ScopeRow = if c.has_name_scope.result then record { around = p.around; flags = c.name_scope_flags-name_flags.result } ∷ [] else [] in
    let owns : List ScopeRow = if c.makes_scope.result then record { around = around; flags = c.scope_flags-flags.result } ∷ [] else [] in
    Holds-opened rows names owns ds c.open_scope-2.new.scoping v
    (name_scope-is v c.has_name_scope.result c.name_scope_flags-name_flags.result c.has_name_scope.ensures (c.name_scope_flags-name_flags.ensures ∙ ap name_scope_flags strict))
    (own_scope-is v c.makes_scope.result c.scope_flags-flags.result (c.makes_scope.ensures ∙ ap makes_scope kind)
    (c.scope_flags-flags.ensures ∙ (ap (λ b. scope_flags b c.args.place.role (head_of c.node.inside.kind).kind) strict ∙ (ap (λ r. scope_flags (is_strict_in p k l fs) r (head_of c.node.inside.kind).kind) stands.role ∙ ap (scope_flags (is_strict_in p k l fs) p.role) kind))))
    (c.in_ok-own.ensures.opened around outer (rows ++ names) ds own (c.in_ok-name.ensures.opened p.around stands.outer rows ds stands.around holds))
