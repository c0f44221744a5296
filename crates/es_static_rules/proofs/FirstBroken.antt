-- The first of some items that passes a test, and the rules that a visit breaks.
use Rattle.std.proofs.Common.{◌≡◌, ℕ, ◌+◌, ◌<◌, List, [], ◌∷◌, ◌++◌, map, length, get_or, take, drop, Bool, true, false, cond, Option, Some, None, find, refl, sym, ap, ◌∙◌, append-nil}
use Rattle.std.specs.List.{filter}
use Rattle.std.proofs.lemmas.List.{drop_more, take-append-drop, take_more}
use Rattle.es_tree.specs.Ancestors.{Ancestor, visit}
use Rattle.es_tree.specs.DeclaredNames.{Name}
use Rattle.es_tree.specs.StaticRules.{IsFirstBreak, breaks_at, is_broken}
use Rattle.es_tree.specs.Tree.{Tree, label_of}
use Rattle.es_tree.specs.declared.error.LowerError.TheVariants.{Invalid}
use Rattle.es_tree.specs.declared.error.Rule.{Rule}
use Rattle.es_tree.specs.declared.ids.NodeId.{NodeId}

module _ {X : Type 0} (P : X → Bool) where
  none_first : (b : Bool) (y : X) (found : Option X) → cond b (Some y) found ≡ None → (b ≡ false) × (found ≡ None)
  none_first true y found e = cc
  none_first false y found e = (refl, e)

  find-past : (xs : List X) (found : Option X) (ys : List X) → find P xs ≡ None → find P ys ≡ found → find P (xs ++ ys) ≡ found
  find-past [] found ys e d = d
  find-past (x ∷ xs) found ys e d =
      let parts = none_first (P x) x (find P xs) e in
      rw parts.0 (find-past xs found ys parts.1 d)

  pub find-next : (xs : List X) (i : ℕ) (d : X) → i < length xs → find P (take i xs) ≡ None → P (get_or xs i d) ≡ false → find P (take (i + 1) xs) ≡ None
  find-next xs i d h before here =
      ap (find P) (take_more xs i d h) ∙ find-past (take i xs) None (get_or xs i d ∷ []) before (rw here refl)

  pub find-found : (xs : List X) (i : ℕ) (d : X) → i < length xs → find P (take i xs) ≡ None → P (get_or xs i d) ≡ true → Some (get_or xs i d) ≡ find P xs
  find-found xs i d h before here =
      let whole : xs ≡ take i xs ++ get_or xs i d ∷ drop (i + 1) xs = sym (take-append-drop i xs) ∙ ap (λ ys. take i xs ++ ys) (drop_more xs i d h) in
      sym (ap (find P) whole ∙ find-past (take i xs) (Some (get_or xs i d)) (get_or xs i d ∷ drop (i + 1) xs) before (rw here refl))

  found_at : (b : Bool) (y x : X) (found : Option X) (ys : List X) → cond b (Some y) found ≡ Some x → (found ≡ Some x → (rest : List X) × (ys ≡ x ∷ rest)) → (rest : List X) × (cond b (y ∷ ys) ys ≡ x ∷ rest)
  found_at true y x found ys e f = let same : y ≡ x = cc in (ys, ap (λ z. z ∷ ys) same)
  found_at false y x found ys e f = f e

  filter-found : (xs : List X) (x : X) → find P xs ≡ Some x → (rest : List X) × (filter P xs ≡ x ∷ rest)
  filter-found [] x e = cc
  filter-found (y ∷ ys) x e = found_at (P y) y x (find P ys) (filter P ys) e (filter-found ys x)

  none_at : (b : Bool) (y : X) (found : Option X) (ys : List X) → cond b (Some y) found ≡ None → (found ≡ None → ys ≡ []) → cond b (y ∷ ys) ys ≡ []
  none_at true y found ys e f = cc
  none_at false y found ys e f = f e

  filter-none : (xs : List X) → find P xs ≡ None → filter P xs ≡ []
  filter-none [] e = refl
  filter-none (y ∷ ys) e = none_at (P y) y (find P ys) (filter P ys) e (filter-none ys)

pub breaks_at-none : (rules : List Rule) (all earlier : List Name) (up : List Ancestor) (n : ℕ) (t : Tree) → find (is_broken all earlier up t) rules ≡ None → breaks_at rules all earlier (visit up n t) ++ [] ≡ []
breaks_at-none rules all earlier up n t none = append-nil _ ∙ ap (map (λ r. (r, (label_of t).id))) (filter-none (is_broken all earlier up t) rules none)

pub breaks_at-first : (rules : List Rule) (all earlier : List Name) (up : List Ancestor) (n : ℕ) (t : Tree) (rule : Rule) (id : NodeId) → find (is_broken all earlier up t) rules ≡ Some rule → (label_of t).id ≡ id.0 → IsFirstBreak (breaks_at rules all earlier (visit up n t) ++ []) (Invalid rule id)
breaks_at-first rules all earlier up n t rule id found same =
    let first = filter-found (is_broken all earlier up t) rules rule found in
    rw first.1 (ap (λ m. (rule, m)) same)
