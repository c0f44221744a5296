-- Every spine is followed by what it becomes.
use Rattle.std.proofs.Common.{◌≡◌, refl}
use Rattle.std.specs.Prelude.{Bool, true, false, not}
use Rattle.es_tree.specs.Words.{Text}
use Rattle.es_tree.specs.Tree.{Tree, kind_of, done, ◌then◌, one, many}
use Rattle.es_tree.specs.declared.ast_type.AstType.TheVariants.{CallExpression, MemberExpression}
use Rattle.es_runs.specs.Alike.{SameWorld}
use Rattle.es_runs.specs.Core.{World, is_free, meaning}
use Rattle.es_runs.specs.Core.Binding.{changeable}
use Rattle.es_runs.specs.OptionalChaining.{Way, Walked, Continued, has_tests, is_link}
use Rattle.es_runs.specs.OptionalChaining.Called.{by_name, by_value, by_first_member, by_later_member}
use Rattle.es_runs.specs.OptionalChaining.Walked.{base, plain_member, plain_call, marked_member, marked_call}
use Rattle.es_runs.specs.OptionalChaining.Continued.{same_spine, inner_spine}
use Rattle.es_runs.proofs.SameOthers.{SameOthers}
use Rattle.es_runs.proofs.OptionalChainingKinds.{first_part, is_declarator}
use Rattle.es_runs.proofs.OptionalChainingReceivers.{Covers}
use Rattle.es_runs.proofs.OptionalChainingWalks.{Follows, Seen, follows_base, follows_call, follows_member, seen_callee, seen_object}
use Rattle.es_runs.proofs.OptionalChainingMarks.{Continues, continues_inner, continues_same, follows_marked, seen_content, tested_covers}
use Rattle.es_runs.proofs.OptionalChainingMarkedCalls.{called_covers, follows_called}

-- what a spine with tests becomes is a step
pub tested_link : {no_all : Bool} {bound steady in_use : Text → Bool} {e : Tree} {way : Way} → Walked no_all bound steady in_use e way → has_tests way.tests ≡ true → is_link way.current ≡ true
tested_link (base link) h = absurd (cc h)
tested_link (plain_member flags below) h = refl
tested_link (plain_call flags below) h = refl
tested_link (marked_member flags below test) h = refl
tested_link (marked_call flags below (by_name none again)) h = refl
tested_link (marked_call flags below (by_value none member fresh)) h = refl
tested_link (marked_call flags below (by_first_member none member k fresh receives)) h = refl
tested_link (marked_call flags below (by_later_member some member k receives fresh)) h = refl

module _ (no_all : Bool) (hidden steady bound in_use : Text → Bool) (w v : World) (counts : v.counts_all ≡ not no_all) (same : SameWorld hidden w v) (others : SameOthers hidden steady w v) (vars : (y : Text) → hidden y ≡ true → v.scope y ≡ changeable) (steady_bound : (y : Text) → steady y ≡ true → is_free (w.scope y) ≡ false) (binds : (y : Text) → bound y ≡ true → is_free (w.scope y) ≡ false) where
  mutual
    pub walks : {e : Tree} {way : Way} → Seen hidden steady w v same others steady_bound e → Covers hidden way.taken → Walked no_all bound steady in_use e way → Follows hidden steady w v same others steady_bound (meaning w e) way
    walks seen cover (base {e = e} link) = follows_base hidden steady w v same others steady_bound e link seen
    walks seen cover (plain_member {l = l} {computed = computed} {o = o} {p = p} {w = way} flags below) =
        follows_member hidden steady w v same others steady_bound l computed o p way flags seen (walks (seen_object hidden steady w v same others steady_bound l o p seen) cover below)
    walks seen cover (plain_call {l = l} {f = f} {arguments = ts} {w = way} flags below) =
        follows_call hidden steady w v same others steady_bound l f ts way flags seen (walks (seen_callee hidden steady w v same others steady_bound l f ts seen) cover below)
    walks seen cover (marked_member {l = l} {computed = computed} {o = o} {p = p} {w = way} {u = next} flags below test) =
        follows_marked no_all hidden steady bound in_use w v counts same others vars steady_bound binds l computed o p way next flags seen
        (continues (seen_object hidden steady w v same others steady_bound l o p seen) (first_part MemberExpression l o (one p then done) refl seen.formed).0 (tested_covers no_all hidden steady bound in_use w v counts same others vars steady_bound binds test cover) below) test cover
    walks seen cover (marked_call {l = l} {f = f} {arguments = ts} {w = way} {u = next} flags below called) =
        follows_called no_all hidden steady bound in_use w v counts same others vars steady_bound binds l f ts flags seen way
        (continues (seen_callee hidden steady w v same others steady_bound l f ts seen) (first_part CallExpression l f (many ts then done) refl seen.formed).0 (called_covers no_all hidden steady bound in_use w v counts same others vars steady_bound binds called cover) below) called cover

    continues : {e : Tree} {way : Way} → Seen hidden steady w v same others steady_bound e → is_declarator (kind_of e) ≡ false → Covers hidden way.taken → Continued no_all bound steady in_use e way → Continues no_all hidden steady bound in_use w v counts same others vars steady_bound binds e way
    continues seen stands cover (same_spine h walked) = continues_same no_all hidden steady bound in_use w v counts same others vars steady_bound binds h stands seen walked (walks seen cover walked)
    continues seen stands cover (inner_spine {e = e} {c = c} {l = l} link inner walked) =
        let content = seen_content no_all hidden steady bound in_use w v counts same others vars steady_bound binds e c l link inner seen in
        continues_inner no_all hidden steady bound in_use w v counts same others vars steady_bound binds seen inner content.0 content.1 walked (walks content.0 cover walked)
