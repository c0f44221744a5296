use Rattle.std.proofs.Common.{◌≡◌, ◌<◌, ℕ, Option, Some, None, IfSome, sym, ◌∙◌, ap, refl, length, slice_get, option_and_then}
use Rattle.std.proofs.lemmas.Option.{slice_get_read}
use Rattle.es_tree.specs.Heads.{symbol}
use Rattle.es_tree.specs.declared.ids.SymbolId.{SymbolId}
use Rattle.es_scope.specs.Numbers.{numbers}
use Rattle.es_scope.specs.Tables.{binding_in}
use Rattle.es_scope.proofs.TableSteps.{bound_within}
use Rattle.es_scope.proofs.scoping.Scoping.get_binding.Goals as goal

known_by : (r : Option SymbolId) (o : Option ℕ) (n : ℕ) → symbol r ≡ o → ((m : ℕ) → o ≡ Some m → m < n) → IfSome r (λ s. s.0 < n)
known_by None o n e h = tt
known_by (Some s) o n e h = h s.0 (sym e)

pub returns-clause-known : goal.returns-clause-known
returns-clause-known c =
    let scopes = c.args.self.now.scopes.items in
    let here : slice_get scopes c.args.scope_id.0 ≡ Some c.index-scope.result.now = slice_get_read scopes (length scopes) c.args.scope_id.0 c.index-scope.result.now refl c.requires c.index-scope.ensures in
    let found : symbol c.copied.result ≡ binding_in c.args.self.now c.args.scope_id.0 c.args.name.now =
    ap symbol (c.copied.ensures ∙ c.get.ensures.value) ∙ sym (ap (λ o. option_and_then (λ k. numbers k.bindings c.args.name.now) o) here) in
    known_by c.copied.result _ _ found (bound_within scopes c.args.self.now.symbols.items c.args.self.now.bound c.args.scope_id.0 c.args.name.now)
