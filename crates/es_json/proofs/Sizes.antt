-- The size of one item or member more.
use Rattle.std.proofs.Common.{◌≡◌, ℕ, ◌+◌, ◌<◌, ◌^◌, ◌-◌, List, [], ◌∷◌, ◌++◌, length, get_or, take, min, max, ap, ◌∙◌, arith}
use Rattle.std.proofs.lemmas.List.{take_more}
use Rattle.serde_json.specs.Data.{depth, items_depth, members_depth}
use Rattle.serde_json.specs.View.{view, items_view, members_view}
use Rattle.serde_json.specs.declared.value.Value.{Value}
use Rattle.serde_json.proofs.Views.{Entry}
use Rattle.es_tree.specs.Capped.{capped}
use Rattle.es_json.specs.Limits.{objects, items_objects, members_objects}

items_objects-push : (vs : List Value) (v : Value) → items_objects (items_view (vs ++ v ∷ [])) ≡ items_objects (items_view vs) + objects (view v)
items_objects-push [] v = omega arith
items_objects-push (w ∷ vs) v = omega (arith, items_objects-push vs v)

members_objects-push : (es : List Entry) (e : Entry) → members_objects (members_view (es ++ e ∷ [])) ≡ members_objects (members_view es) + objects (view e.1)
members_objects-push [] e = omega arith
members_objects-push (f ∷ es) e = omega (arith, members_objects-push es e)

items_depth-push : (vs : List Value) (v : Value) → items_depth (items_view (vs ++ v ∷ [])) ≡ max (items_depth (items_view vs)) (depth (view v))
items_depth-push [] v = omega arith
items_depth-push (w ∷ vs) v = omega (arith, items_depth-push vs v)

members_depth-push : (es : List Entry) (e : Entry) → members_depth (members_view (es ++ e ∷ [])) ≡ max (members_depth (members_view es)) (depth (view e.1))
members_depth-push [] e = omega arith
members_depth-push (f ∷ es) e = omega (arith, members_depth-push es e)

pub one_more_item : (vs : List Value) (i : ℕ) (d : Value) → i < length vs
    → capped (items_objects (items_view (take (i + 1) vs))) ≡ min (capped (items_objects (items_view (take i vs))) + capped (objects (view (get_or vs i d)))) (2 ^ 64 - 1)
one_more_item vs i d h =
    ap (λ l. capped (items_objects (items_view l))) (take_more vs i d h) ∙ ap capped (items_objects-push (take i vs) (get_or vs i d)) ∙ omega arith

pub one_more_member : (es : List Entry) (e : Entry)
    → capped (members_objects (members_view (es ++ e ∷ []))) ≡ min (capped (members_objects (members_view es)) + capped (objects (view e.1))) (2 ^ 64 - 1)
one_more_member es e = ap capped (members_objects-push es e) ∙ omega arith

pub item_deeper : (vs : List Value) (i : ℕ) (d : Value) → i < length vs
    → capped (items_depth (items_view (take (i + 1) vs))) ≡ max (capped (items_depth (items_view (take i vs)))) (capped (depth (view (get_or vs i d))))
item_deeper vs i d h =
    ap (λ l. capped (items_depth (items_view l))) (take_more vs i d h) ∙ ap capped (items_depth-push (take i vs) (get_or vs i d)) ∙ omega arith

pub member_deeper : (es : List Entry) (e : Entry)
    → capped (members_depth (members_view (es ++ e ∷ []))) ≡ max (capped (members_depth (members_view es))) (capped (depth (view e.1)))
member_deeper es e = ap capped (members_depth-push es e) ∙ omega arith
