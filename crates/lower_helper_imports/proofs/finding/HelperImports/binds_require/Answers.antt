use Rattle.std.proofs.Common.{◌∙◌, ◌&&◌, ap, sym}
use Rattle.std.specs.Prelude.{not}
use Rattle.lower_helper_imports.proofs.FirstFound.{module-free, require-bound}
use Rattle.lower_helper_imports.proofs.finding.HelperImports.binds_require.Goals as goal

pub returns-then-not-self : goal.returns-then-not-self
returns-then-not-self c p sort table =
    (λ i. sym c.if-not-self.true i && c.is_some.ensures i)
    ∙ require-bound p c.args.scoping.now c.args.self.is_module c.root_scope_id.result.0 c.get_binding.result table sort c.root_scope_id.ensures.zero c.get_binding.ensures.binding

pub returns-else-not-self : goal.returns-else-not-self
returns-else-not-self c p sort table = c.if-not-self.false ∙ module-free p (ap not (sym sort) ∙ c.if-not-self.false)
