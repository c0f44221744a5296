-- The law that a program in which names stand for lists of excluded keys has no construct that it hadn't before: constants of lists of texts have none.
use Rattle.std.proofs.Common.{◌≡◌, ◌∙◌, refl, List, [], ◌∷◌}
use Rattle.std.specs.Prelude.{Bool, true, false, ◌||◌, map}
use Rattle.es_tree.specs.Constructs.{is_enabled_construct}
use Rattle.es_tree.specs.Tree.{Tree, Fields, empty, ◌before◌, trees}
use Rattle.es_tree.specs.Walks.{any_in_fields, any_in_trees, any_node}
use Rattle.es_tree.specs.declared.options.EnvOptions.{EnvOptions}
use Rattle.es_resolution.specs.Declarations.{Bound}
use Rattle.es_resolution.proofs.Basics.{Each}
use Rattle.es_helper_calls.specs.TextLists.{is_text_list}
use Rattle.es_helper_calls.proofs.CallingTrees.{AnyWay, Anything, any-tree}
use Rattle.es_helper_calls.proofs.TextLists.{TextList, Texts, list-is}
use Rattle.es_helper_calls.proofs.TextLists.TextList.{text_list}
use Rattle.es_helper_calls.proofs.TextLists.Texts.{no_text, one_text}
use Rattle.es_helper_imports.specs.Imported.{unmarked}
use Rattle.es_helper_imports.proofs.BareConstructs.{same-constructs}
use Rattle.es_helper_imports.proofs.NoConstructs.{no-row, none-now, none-top}
use Rattle.es_top_constants.specs.TopConstants.{constants_of, declarator_of, with_constants}
use Rattle.es_top_constants.proofs.Constants.{the_constants}
use Rattle.es_excluded_keys.specs.Laws.{LawNoConstructs}
use Rattle.es_excluded_keys.proofs.SharedCalls.{shared-calls}
use Rattle.es_excluded_keys.proofs.SharedLists.{Pairs, lists-known}

any-each : (xs : List Bound) → Each (λ b. Unit {0}) xs
any-each [] = tt
any-each (x ∷ xs) = (tt, any-each xs)

abbrev IsTexts : Tree → Type 0
IsTexts t = is_text_list t ≡ true

module _ (o : EnvOptions) where
  abbrev any_among : Fields → Bool
  any_among fs = any_in_fields (is_enabled_construct o) fs

  abbrev any_at : Tree → Bool
  any_at t = any_node (is_enabled_construct o) t

  none-texts : (fs : Fields) → Texts fs → any_among fs ≡ false
  none-texts ts no_text = refl
  none-texts ts (one_text {fs = fs} k h) = λ i. (no-row o i || false) || none-texts fs h i

  none-list : (t : Tree) → TextList t → any_at t ≡ false
  none-list t (text_list l fs h) = λ i. no-row o i || none-texts fs h i

  none-declarators : (bs : List Bound) (ls : List Tree) → Pairs IsTexts bs ls → any_in_trees (is_enabled_construct o) (trees (map declarator_of (constants_of bs ls))) ≡ false
  none-declarators [] ls h = refl
  none-declarators (b ∷ bs) (t ∷ ts) h = λ i. (no-row o i || ((no-row o i || false) || (none-list t (list-is t h.0) i || false))) || none-declarators bs ts h.1 i
  none-declarators (b ∷ bs) [] h = absurd h

  none-constants : (bs : List Bound) (ls : List Tree) (t : Tree) → Pairs IsTexts bs ls → any_at t ≡ false → any_at (with_constants (constants_of bs ls) t) ≡ false
  none-constants [] ls t h e = e
  none-constants (b ∷ bs) [] t h e = absurd h
  none-constants (b ∷ bs) (l ∷ ls) t h e = none-top o (the_constants (constants_of (b ∷ bs) (l ∷ ls)) before empty) t (λ i. (no-row o i || (none-declarators (b ∷ bs) (l ∷ ls) h i || false)) || false) e

pub law_no_constructs_proof : LawNoConstructs
law_no_constructs_proof o in_use p q names h none =
    let xs = unmarked names in
    let calls = shared-calls (λ b. Unit {0}) AnyWay (λ ks b e d. tt) h.shares (any-each xs) in
    let texts = lists-known Anything IsTexts (λ ks e d. e) h.shares (any-tree p) in
    same-constructs o (with_constants (constants_of xs h.lists) h.shared) q h.written ∙ none-constants o xs h.lists h.shared texts (none-now o AnyWay calls none)
