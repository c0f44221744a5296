-- The rows make no call that excludes keys, so that no name stands for keys after their steps.
use Rattle.std.proofs.Common.{◌≡◌, refl, ap, List}
use Rattle.std.proofs.lemmas.Bool.{and_parts}
use Rattle.std.specs.Prelude.{true, false, ◌&&◌, codes}
use Rattle.es_tree.specs.Tree.{Tree, node, Label, kind_of}
use Rattle.es_tree.specs.Walks.{all_nodes}
use Rattle.es_tree.specs.declared.ast_type.AstType.TheVariants.{CallExpression, Identifier, MemberExpression, ObjectExpression}
use Rattle.es_resolution.specs.Declarations.{Bound}
use Rattle.es_steps.specs.Nodes.{placed}
use Rattle.es_steps.specs.NullishCoalescing.{NullishCoalescingRule}
use Rattle.es_steps.specs.NullishCoalescing.NullishCoalescingRule.{reading_again, with_temporary}
use Rattle.es_steps.specs.ObjectSpread.{SpreadRule}
use Rattle.es_steps.specs.Steps.{Site, Whole}
use Rattle.es_statement_runs.specs.Helpers.{is_this_name}
use Rattle.es_statement_runs.specs.Names.{is_word}
use Rattle.es_statement_steps.proofs.Catchings.{CatchRow}
use Rattle.es_statement_steps.proofs.Catchings.CatchMade.{made_catch}
use Rattle.es_statement_steps.proofs.Coalescings.{CoalescingRow}
use Rattle.es_statement_steps.proofs.KeylessPrograms.{KeepsKeyless, excludes_none, is_excluding, without_}
use Rattle.es_statement_steps.proofs.SpreadParts.{is_copy, spread-copy, spread-so}

coalescing-row : (n : Site) (w : Whole) (bs : List Bound) (t u : Tree) → NullishCoalescingRule n w bs t u → KeepsKeyless t u
coalescing-row n w bs t u (with_temporary {l = l} {r = r} texts again next) = record {
  callee = refl;
  name = refl;
  key = λ h. refl;
  keyless = λ h. let d = and_parts (all_nodes excludes_none l) (all_nodes excludes_none r && true) h in rw (d.0, (and_parts (all_nodes excludes_none r) true d.1).0) refl;
}
coalescing-row n w bs t u (reading_again {l = l} {r = r} texts again) = record {
  callee = refl;
  name = refl;
  key = λ h. refl;
  keyless = λ h. let d = and_parts (all_nodes excludes_none l) (all_nodes excludes_none r && true) h in rw (d.0, (and_parts (all_nodes excludes_none r) true d.1).0) refl;
}

pub coalescing-keyless : (new : List Bound) (n : Site) (w : Whole) (t u : Tree) → CoalescingRow n w new t u → KeepsKeyless t u
coalescing-keyless new n w t u h = coalescing-row n w new t u h.rule

pub catch-keyless : (new : List Bound) (n : Site) (w : Whole) (t u : Tree) → CatchRow new n w t u → KeepsKeyless t u
catch-keyless new n w t u (made_catch {m = m} {b = b} fresh) = record { callee = refl; name = refl; key = λ h. h; keyless = λ h. h }

-- OBJECT SPREAD

placed-keyless : (m : Label) (u : Tree) → all_nodes excludes_none (placed m u) ≡ all_nodes excludes_none u
placed-keyless m (node k l fs) = refl

copy-callee : (u : Tree) → is_copy (kind_of u) ≡ true → is_excluding u ≡ false
copy-callee (node CallExpression l fs) h = refl
copy-callee (node ObjectExpression l fs) h = refl
copy-callee (node MemberExpression l fs) h = absurd (cc h)
copy-callee (node Identifier l fs) h = absurd (cc h)
copy-callee (node _ l fs) h = absurd (cc h)

copy-name : (u : Tree) → is_copy (kind_of u) ≡ true → is_this_name (codes "babelHelpers") u ≡ false
copy-name (node Identifier l fs) h = absurd (cc h)
copy-name (node _ l fs) h = refl

pub spread-keyless : (new : List Bound) (n : Site) (w : Whole) (t u : Tree) → SpreadRule n w new t u → KeepsKeyless t u
spread-keyless new n w t u h =
    let c = spread-copy n w new t u h in
    record {
      callee = copy-callee u c.kind;
      name = copy-name u c.kind;
      key = λ e. ap (is_word without_) c.text;
      keyless = spread-so excludes_none refl (λ given. refl) (λ ps. refl) placed-keyless n w new t u h;
    }
