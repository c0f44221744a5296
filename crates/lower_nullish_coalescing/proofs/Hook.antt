-- What the hook leaves: a `??` that was lowered, or a node that is none.
use Rattle.std.proofs.Common.{◌≡◌, ◌<◌, ◌&&◌, Bool, true, false, refl, length}
use Rattle.es_tree.specs.Constructs.{is_nullish_coalescing}
use Rattle.es_tree.specs.Tree.{Tree, kind_of}
use Rattle.es_tree.specs.declared.ast_type.AstType.TheVariants.{ConditionalExpression, LogicalExpression}
use Rattle.es_tree.specs.declared.options.EnvOptions.{EnvOptions}
use Rattle.es_resolution.specs.Seen.{seen}
use Rattle.es_steps.specs.CoreRules.{RowRule}
use Rattle.es_steps.specs.NullishCoalescing.{NullishCoalescingRule}
use Rattle.es_changes.specs.Moments.{Moment}
use Rattle.es_conditions.proofs.Coalescing.{coalescing-keeps}
use Rattle.es_traverse.specs.Laws.{Seen, anything, is_construct}
use Rattle.lower_temporaries.specs.Replacings.{IsPut, Replaces}
use Rattle.lower_temporaries.proofs.Entered.{on-rule}
use Rattle.lower_temporaries.proofs.RowProfiles.{EnteredBy, left-alone, none-where, put-by-kinds, row-entered, whatever-known}
use Rattle.lower_nullish_coalescing.specs.Coalescings.{is_lowerable_coalescing}
use Rattle.lower_nullish_coalescing.specs.Profile.{nullish_coalescing_profile}
use Rattle.lower_nullish_coalescing.proofs.Sides.{formed-coalescing, lowerable-seen}

is-put : (o : EnvOptions) (t u : Tree) → kind_of t ≡ LogicalExpression → kind_of u ≡ ConditionalExpression → IsPut (nullish_coalescing_profile o) t u
is-put o t u e d = put-by-kinds (nullish_coalescing_profile o) LogicalExpression ConditionalExpression t u e d (none-where o.es2020.nullish_coalescing_operator) refl refl refl d

pub entered : (o : EnvOptions) → o.es2020.nullish_coalescing_operator ≡ true → (a b : Moment) (t s u : Tree) → s ≡ t → 0 < length a.lists → Seen (λ x y. Replaces anything NullishCoalescingRule a x b y) s u →
    Seen (λ x y. (kind_of x ≡ LogicalExpression) × (kind_of y ≡ ConditionalExpression)) s u → Seen (λ x y. EnteredBy (nullish_coalescing_profile o) a x b y) t u
entered o on a b t s u taken there rows kinds =
    row-entered NullishCoalescingRule a b t s u taken there (nullish_coalescing_profile o) (on-rule (RowRule NullishCoalescingRule) o.es2020.nullish_coalescing_operator on) (coalescing-keeps o on) (λ names. whatever-known (rows names))
    (λ names. let k = kinds names in is-put o (seen names s) (seen names u) k.0 k.1)

pub left : (o : EnvOptions) (is_on : Bool) → is_on ≡ o.es2020.nullish_coalescing_operator → (a : Moment) (t : Tree) → (is_on && is_construct is_lowerable_coalescing t) ≡ false → Seen (λ x y. EnteredBy (nullish_coalescing_profile o) a x a y) t t
left o is_on = left-alone (nullish_coalescing_profile o) is_nullish_coalescing is_lowerable_coalescing o.es2020.nullish_coalescing_operator is_on (λ t. refl) (λ n t known. known) formed-coalescing lowerable-seen
