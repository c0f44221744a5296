-- `babelHelpers` is unbound where a helper is to copy properties.
use Rattle.std.proofs.Common.{◌≡◌, ◌||◌, ℕ, Option, Some, None, codes, refl}
use Rattle.std.proofs.lemmas.Bool.{and_from, and_parts}
use Rattle.std.specs.Prelude.{Bool, true, false, ◌&&◌, is_some, not}
use Rattle.es_tree.specs.Tree.{node, Label, Fields}
use Rattle.es_tree.specs.declared.ast_type.AstType.{AstType}
use Rattle.es_tree.specs.declared.options.EnvOptions.{EnvOptions}
use Rattle.es_steps.specs.Open.{is_body, opened_fields}
use Rattle.es_steps.specs.Steps.{Site, site_in}
use Rattle.es_conditions.specs.CoreConditions.{each_passes, each_passes_in, is_chain_placed, is_copied, is_copy_free, is_placed, is_power_free}

unbound-by : (asked : Bool) (s : Option ℕ) → asked ≡ true → (not asked || not (is_some s)) ≡ true → s ≡ None
unbound-by true None h free = refl
unbound-by true (Some s) h free = absurd (cc free)
unbound-by false s h free = absurd (cc h)

pub copied-unbound : (o : EnvOptions) (n : Site) (k : AstType) (l : Label) (fs : Fields) → is_some o.es2018.object_rest_spread ≡ true → is_copied k l fs ≡ true → each_passes (is_placed o) n (node k l fs) ≡ true → n.names.scope (codes "babelHelpers") ≡ None
copied-unbound o n k l fs on copied placed =
    let names = (and_parts (is_placed o n k l fs) (each_passes_in (is_placed o) (site_in n k l (opened_fields (is_body k) fs)) (is_body k) fs) placed).0 in
    let free = (and_parts (is_power_free o n k l fs) (is_copy_free o n k l fs) (and_parts (is_power_free o n k l fs && is_copy_free o n k l fs) (is_chain_placed o n k) names).0).1 in
    unbound-by (is_some o.es2018.object_rest_spread && is_copied k l fs) (n.names.scope (codes "babelHelpers")) (and_from (is_some o.es2018.object_rest_spread) (is_copied k l fs) on copied) free
