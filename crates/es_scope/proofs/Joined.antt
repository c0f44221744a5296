-- Texts joined by `$`.
use Rattle.std.proofs.Common.{◌≡◌, List, [], ◌∷◌, ◌++◌, map, codes, refl, sym, append_assoc, append-nil, Bor}
use Rattle.std.specs.List.{flat_map, join_by}
use Rattle.es_tree.specs.Words.{Text}
use Rattle.es_tree.specs.Fresh.{joined}

pub join_by-joined : (xs : List (Bor Text)) → join_by (λ x. x.now) (codes "$") xs ≡ joined (map (λ x. x.now) xs)
join_by-joined [] = refl
join_by-joined (x ∷ []) = append-nil x.now
join_by-joined (x ∷ y ∷ ys) =
    rw (← join_by-joined (y ∷ ys)) (sym (append_assoc x.now (codes "$") (y.now ++ flat_map (λ z. codes "$" ++ z.now) ys)))
