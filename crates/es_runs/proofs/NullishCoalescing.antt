-- `l ?? r` and what it becomes are alike, at any place where no name that is taken stands.
use Rattle.std.proofs.Common.{◌≡◌, refl, ap, List, [], ◌∷◌}
use Rattle.std.specs.Prelude.{Bool, true, false, ◌||◌, codes}
use Rattle.es_tree.specs.Words.{Text}
use Rattle.es_tree.specs.Names.{first_text as first}
use Rattle.es_tree.specs.Tree.{Tree, node}
use Rattle.es_tree.specs.declared.ast_type.AstType.TheVariants.{Identifier, ThisExpression}
use Rattle.es_runs.specs.Alike.{Alike, Equal, Level, SameWorld, bad_names, touches, set_cells, the_value}
use Rattle.es_runs.specs.Core.{World, Meaning, value, literal, logical, meaning}
use Rattle.es_runs.specs.Core.Form.{other}
use Rattle.es_runs.specs.Machine.{Value}
use Rattle.es_runs.specs.NullishCoalescing.{NullishCoalescingRule}
use Rattle.es_runs.specs.NullishCoalescing.NullishCoalescingRule.{with_temporary, reading_again}
use Rattle.es_runs.proofs.Duplicated.{seen_like}
use Rattle.es_runs.proofs.SameOthers.{SameOthers}
use Rattle.es_runs.proofs.Fresh.{or_left, or_right}
use Rattle.es_runs.proofs.NullishCoalescingValues.{tested_meaning, nullish_alike, like_by_value, name_steady, literal_steady}
use Rattle.es_runs.proofs.RowPlaces.{IsRuleAlike}
use Rattle.es_runs.proofs.Temporary.{bytes_eq-self}
use Rattle.es_runs.proofs.Written.{one_of}

-- THE ROW

module _ (hidden steady : Text → Bool) (w v : World) (same : SameWorld hidden w v) (others : SameOthers hidden steady w v) where
  abbrev bad : Level → Text → Bool
  bad = bad_names hidden steady

  part_like : (a : Tree) → touches bad the_value a ≡ false → Alike (set_cells hidden) Equal (value w (meaning w a)) (value v (meaning v a))
  part_like a h = (seen_like hidden steady w v same others the_value a h).evaluation

  left_like : (l r : Tree) → (touches bad the_value l || (touches bad the_value r || false)) ≡ false → Alike (set_cells hidden) Equal (value w (meaning w l)) (value v (meaning v l))
  left_like l r h = part_like l (or_left (touches bad the_value l) (touches bad the_value r || false) h)

  right_like : (l r : Tree) → (touches bad the_value l || (touches bad the_value r || false)) ≡ false → Alike (set_cells hidden) Equal (value w (meaning w r)) (value v (meaning v r))
  right_like l r h = part_like r (or_left (touches bad the_value r) false (or_right (touches bad the_value l) (touches bad the_value r || false) h))

this_steady : (hidden : Text → Bool) (w v : World) → SameWorld hidden w v → (t u : Value) → u ≡ t → (a b : Meaning) → Alike (set_cells hidden) Equal (value w a) (value v b) → Alike (set_cells hidden) Equal (value w (logical w (codes "??") (literal t other) a)) (value v (tested_meaning v (literal u other) (literal u other) b))
this_steady hidden w v same t u e a b h = rw e (literal_steady hidden w v same t other a b h)

pub nullish_coalescing_like : (bound steady in_use : Text → Bool) (xs : List Text) → IsRuleAlike bound steady xs (NullishCoalescingRule steady in_use xs)
nullish_coalescing_like bound steady in_use _ w v n _ _ place (with_temporary {l = l} {r = r} {x = x} texts again fresh) =
    let here : one_of (x ∷ []) x ≡ true = rw bytes_eq-self refl in
    rw (ap first texts) (like_by_value (one_of (x ∷ [])) w v place.same n _ _
    (nullish_alike (one_of (x ∷ [])) w v place.same x here (place.cells x here) (meaning w r) (meaning v r) (right_like (one_of (x ∷ [])) steady w v place.same place.others l r place.untouched) (meaning w l) (meaning v l) (left_like (one_of (x ∷ [])) steady w v place.same place.others l r place.untouched)))
nullish_coalescing_like bound steady in_use _ w v n _ _ place (reading_again {l = node ThisExpression o fs} {r = r} texts again) =
    rw (ap first texts) (like_by_value (one_of []) w v place.same n _ _
    (this_steady (one_of []) w v place.same w.this v.this place.same.this (meaning w r) (meaning v r) (right_like (one_of []) steady w v place.same place.others (node ThisExpression o fs) r place.untouched)))
nullish_coalescing_like bound steady in_use _ w v n _ _ place (reading_again {l = node Identifier o fs} {r = r} texts again) =
    rw (ap first texts) (like_by_value (one_of []) w v place.same n _ _
    (name_steady (one_of []) w v place.same (first o.texts) refl (place.binds (first o.texts) (place.steady_bound (first o.texts) again)) (meaning w r) (meaning v r) (right_like (one_of []) steady w v place.same place.others (node Identifier o fs) r place.untouched)))
nullish_coalescing_like bound steady in_use _ w v n _ _ place (reading_again {l = node _ o fs} {r = r} texts again) = absurd (cc again)
