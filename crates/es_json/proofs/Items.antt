-- Lists of values beside what was read for them.
use Rattle.std.proofs.Common.{◌≡◌, ℕ, ◌+◌, ◌<◌, List, [], ◌∷◌, ◌++◌, length, get_or, take, drop, ◌-◌, ◌≤◌, Option, Some, sym, ap, ◌∙◌, subst, append_assoc}
use Rattle.std.proofs.lemmas.List.{drop_more, append-nil, length-drop}
use Rattle.std.proofs.Math.Seq.{take-length}
use Rattle.std.proofs.Math.ListN.{drop_of_length-le}
use Rattle.serde_json.specs.Data.{Items}
use Rattle.serde_json.specs.View.{view, items_view}
use Rattle.serde_json.specs.declared.value.Value.{Value}
use Rattle.es_tree.specs.Tree.{Tree, trees, Field, fields}
use Rattle.es_tree.specs.declared.table.Sort.{Sort}
use Rattle.es_json.specs.Values.{sort_before}
use Rattle.es_json.specs.Form.{IsForm, AreItems, IsElement, AreElements}

pub rest_of : (vs : List Value) (i : ℕ) → take (length vs - i) (drop i vs) ≡ drop i vs
rest_of vs i = let P : ℕ → Type 0 = λ n. take n (drop i vs) ≡ drop i vs in subst P (length-drop i vs) (take-length (drop i vs))

module _ (s last : Sort) (vs : List Value) (i : ℕ) (x : Value) (here : Sort) (h : i < length vs) (is : x ≡ get_or vs i x) (place : here ≡ sort_before s last (items_view (take (length vs - (i + 1)) (drop (i + 1) vs)))) where
  items_from : (t : Tree) (ts : List Tree) → IsForm here (view x) t → AreItems s last (Some (items_view (drop (i + 1) vs))) (trees ts)
      → AreItems s last (Some (items_view (drop i vs))) (trees (t ∷ ts))
  items_from t ts form rest =
      let P : List Value → Type 0 = λ l. AreItems s last (Some (items_view l)) (trees (t ∷ ts)) in
      let Q : Value → Sort → Type 0 = λ y r. IsForm r (view y) t in
      subst P (sym (drop_more vs i x h)) (subst (λ y. Q y (sort_before s last (items_view (drop (i + 1) vs)))) is (subst (Q x) (place ∙ ap (λ l. sort_before s last (items_view l)) (rest_of vs (i + 1))) form), rest)

  -- one more item has been read
  pub one_more_item : (nodes more : List Tree) (t : Tree) → more ≡ nodes ++ t ∷ [] → IsForm here (view x) t
      → ((ts : List Tree) → AreItems s last (Some (items_view (drop i vs))) (trees ts) → AreItems s last (Some (items_view vs)) (trees (nodes ++ ts)))
      → (ts : List Tree) → AreItems s last (Some (items_view (drop (i + 1) vs))) (trees ts) → AreItems s last (Some (items_view vs)) (trees (more ++ ts))
  one_more_item nodes more t e form so_far ts rest =
      let P : List Tree → Type 0 = λ l. AreItems s last (Some (items_view vs)) (trees l) in
      let joined : nodes ++ t ∷ ts ≡ more ++ ts = sym (append_assoc nodes (t ∷ []) ts) ∙ ap (λ l. l ++ ts) (sym e) in
      subst P joined (so_far (t ∷ ts) (items_from t ts form rest))

  elements_from : (f : Field) (fs : List Field) → IsElement here (view x) f → AreElements s last (Some (items_view (drop (i + 1) vs))) (fields fs)
      → AreElements s last (Some (items_view (drop i vs))) (fields (f ∷ fs))
  elements_from f fs form rest =
      let P : List Value → Type 0 = λ l. AreElements s last (Some (items_view l)) (fields (f ∷ fs)) in
      let Q : Value → Sort → Type 0 = λ y r. IsElement r (view y) f in
      subst P (sym (drop_more vs i x h)) (subst (λ y. Q y (sort_before s last (items_view (drop (i + 1) vs)))) is (subst (Q x) (place ∙ ap (λ l. sort_before s last (items_view l)) (rest_of vs (i + 1))) form), rest)

  pub one_more_element : (read more : List Field) (f : Field) → more ≡ read ++ f ∷ [] → IsElement here (view x) f
      → ((fs : List Field) → AreElements s last (Some (items_view (drop i vs))) (fields fs) → AreElements s last (Some (items_view vs)) (fields (read ++ fs)))
      → (fs : List Field) → AreElements s last (Some (items_view (drop (i + 1) vs))) (fields fs) → AreElements s last (Some (items_view vs)) (fields (more ++ fs))
  one_more_element read more f e form so_far fs rest =
      let P : List Field → Type 0 = λ l. AreElements s last (Some (items_view vs)) (fields l) in
      let joined : read ++ f ∷ fs ≡ more ++ fs = sym (append_assoc read (f ∷ []) fs) ∙ ap (λ l. l ++ fs) (sym e) in
      subst P joined (so_far (f ∷ fs) (elements_from f fs form rest))

-- all items of a list have been read
pub all_items : (s last : Sort) (vs : List Value) (i : ℕ) (nodes : List Tree) (o : Option Items) → length vs ≤ i → Some (items_view vs) ≡ o
    → ((ts : List Tree) → AreItems s last (Some (items_view (drop i vs))) (trees ts) → AreItems s last (Some (items_view vs)) (trees (nodes ++ ts)))
    → AreItems s last o (trees nodes)
all_items s last vs i nodes o h same form =
    let P : List Value → Type 0 = λ l. AreItems s last (Some (items_view l)) (trees []) in
    let Q : List Tree → Type 0 = λ l. AreItems s last (Some (items_view vs)) (trees l) in
    let R : Option Items → Type 0 = λ p. AreItems s last p (trees nodes) in
    subst R same (subst Q (append-nil nodes) (form [] (subst P (sym (drop_of_length-le vs h)) tt)))

pub all_elements : (s last : Sort) (vs : List Value) (i : ℕ) (read : List Field) (o : Option Items) → length vs ≤ i → Some (items_view vs) ≡ o
    → ((fs : List Field) → AreElements s last (Some (items_view (drop i vs))) (fields fs) → AreElements s last (Some (items_view vs)) (fields (read ++ fs)))
    → AreElements s last o (fields read)
all_elements s last vs i read o h same form =
    let P : List Value → Type 0 = λ l. AreElements s last (Some (items_view l)) (fields []) in
    let Q : List Field → Type 0 = λ l. AreElements s last (Some (items_view vs)) (fields l) in
    let R : Option Items → Type 0 = λ p. AreElements s last p (fields read) in
    subst R same (subst Q (append-nil read) (form [] (subst P (sym (drop_of_length-le vs h)) tt)))
