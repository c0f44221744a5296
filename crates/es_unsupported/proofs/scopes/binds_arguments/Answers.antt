use Rattle.std.proofs.Common.{◌≡◌, ℕ, Bool, true, false, Option, Some, None, ◌&&◌, is_some, codes, if◌then◌else◌, refl, sym, ap, subst, ◌∙◌}
use Rattle.es_tree.specs.Heads.{symbol}
use Rattle.es_tree.specs.Tree.{kind_of, label_of}
use Rattle.es_tree.specs.declared.ids.SymbolId.{SymbolId}
use Rattle.es_semantic.specs.SymbolsOf.{is_bound}
use Rattle.es_semantic.proofs.Chains.{bound_some}
use Rattle.es_unsupported.specs.ArrowShapes.{may_bind_arguments}
use Rattle.es_unsupported.specs.MarkedWalk.{scope_mark}
use Rattle.es_unsupported.proofs.scopes.binds_arguments.Goals as goal

own-scope : (makes : Bool) (own mark : ℕ) → Some own ≡ (if makes then Some mark else None) → (makes ≡ true) × (own ≡ mark)
own-scope true own mark e = (refl, cc)
own-scope false own mark e = absurd (cc e)

some-symbol : (r : Option SymbolId) → is_some r ≡ is_some (symbol r)
some-symbol None = refl
some-symbol (Some s) = refl

pub returns-in-Some : goal.returns-in-Some
returns-in-Some c = λ ds binds.
    let u = c.args.node.now in let own = c.in-Some.own.0 in let x = codes "arguments" in
    let told : Some own ≡ (if may_bind_arguments (kind_of u) then Some (scope_mark (label_of u).marks) else None) =
    subst (λ t. Some own ≡ (if may_bind_arguments (kind_of t) then Some (scope_mark (label_of t).marks) else None)) c.node.view_is (c.in-Some.ensures {u = tt}) in
    let is = own-scope (may_bind_arguments (kind_of u)) own (scope_mark (label_of u).marks) told in
    let found : c.is_some.result ≡ is_bound ds own x = c.is_some.ensures ∙ (some-symbol c.get_binding.result ∙ (ap is_some (c.get_binding.ensures.binding ∙ binds own x) ∙ sym (bound_some ds own x))) in
    found ∙ (λ i. sym is.0 i && is_bound ds (is.1 i) x)
