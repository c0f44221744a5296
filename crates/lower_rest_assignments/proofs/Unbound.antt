-- `babelHelpers` is unbound where an assignment to a pattern with a rest stands.
use Rattle.std.proofs.Common.{◌≡◌, None, codes, refl}
use Rattle.std.specs.Prelude.{is_some, true}
use Rattle.es_tree.specs.Constructs.{any_kind, is_rest}
use Rattle.es_tree.specs.Tree.{Tree, node, Label, done, ◌then◌, many, Trees}
use Rattle.es_tree.specs.declared.ast_type.AstType.TheVariants.{ObjectTarget}
use Rattle.es_tree.specs.declared.options.EnvOptions.{EnvOptions}
use Rattle.es_steps.specs.RestAssignments.{pattern_assigned}
use Rattle.es_steps.specs.Steps.{Site}
use Rattle.es_conditions.specs.CoreConditions.{is_free}
use Rattle.es_conditions.proofs.Parts.{some_site}
use Rattle.es_conditions.proofs.Rows.{parts-of-assignment, scope_at, wrapped-free, wrapped-of}
use Rattle.lower_temporaries.proofs.Copied.{copied-unbound}

pub rest-unbound : (o : EnvOptions) (n : Site) (m lp : Label) (ps : Trees) (e : Tree) → is_some o.es2018.object_rest_spread ≡ true → any_kind is_rest ps ≡ true → is_free o n (pattern_assigned m lp ps e) ≡ true → n.names.scope (codes "babelHelpers") ≡ None
rest-unbound o n m lp ps e on rest free =
    let t = pattern_assigned m lp ps e in
    let pattern : Tree = node ObjectTarget lp (many ps then done) in
    let sides = parts-of-assignment o n m pattern e (wrapped-of o n t (wrapped-free o n t free)).known in
    copied-unbound o (some_site (scope_at n)) ObjectTarget lp (many ps then done) on rest (sides.0.valued (some_site (scope_at n)) (record { scope = λ y u. refl; parameters = λ y u. refl }) refl)
