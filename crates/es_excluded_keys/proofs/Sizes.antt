-- The law that a program in which names stand for lists of excluded keys is at most half as large again: a call of which a list is taken has six nodes
-- of its own, and each constant comes to three more.
use Rattle.std.proofs.Common.{◌≡◌, ◌∙◌, ℕ, ◌+◌, ◌*◌, ◌≤◌, sym, ap, List, [], ◌∷◌, ◌++◌, length, length-append, arith}
use Rattle.std.specs.Prelude.{Bool, true, map}
use Rattle.es_tree.specs.Tree.{Tree, node, Fields, ◌then◌, Field, one, Trees, empty, ◌before◌, trees, tree_size, fields_size, field_size, trees_size}
use Rattle.es_tree.specs.declared.ast_type.AstType.TheVariants.{ArrayExpression, MemberExpression, StringLiteral}
use Rattle.es_resolution.specs.Declarations.{Bound}
use Rattle.es_runs.proofs.Weights.{tree_size-bare}
use Rattle.es_helper_calls.specs.HelperCalls.{helper_of}
use Rattle.es_helper_calls.specs.TextLists.{is_text_list}
use Rattle.es_helper_imports.specs.Imported.{unmarked}
use Rattle.es_helper_imports.proofs.Sizes.{size-top}
use Rattle.es_top_constants.specs.TopConstants.{constants_of, declarator_of, with_constants}
use Rattle.es_top_constants.proofs.Constants.{the_constants}
use Rattle.es_excluded_keys.specs.ExcludedKeys.{Shares, SharesAll, SharesBy, SharesIn, is_leaving_out}
use Rattle.es_excluded_keys.specs.ExcludedKeys.Shares.{keeps, shares}
use Rattle.es_excluded_keys.specs.ExcludedKeys.SharesAll.{next, none}
use Rattle.es_excluded_keys.specs.ExcludedKeys.SharesBy.{at_many, at_none, at_one, at_statements}
use Rattle.es_excluded_keys.specs.ExcludedKeys.SharesIn.{ends, goes}
use Rattle.es_excluded_keys.specs.Laws.{LawSharedSize}
use Rattle.es_excluded_keys.proofs.TakenCalls.{taken-parts}

abbrev lists_size : List Tree → ℕ
lists_size [] = 0
lists_size (t ∷ ts) = tree_size t + lists_size ts

size-append : (ls ms : List Tree) → lists_size (ls ++ ms) ≡ lists_size ls + lists_size ms
size-append [] ms = omega arith
size-append (l ∷ ls) ms = let rest = size-append ls ms in omega arith

-- WHERE NAMES STAND FOR LISTS: a part of this size becomes one of that, and these lists are taken, under as many names
record Sized (old new : ℕ) (xs : List Bound) (ls : List Tree) : Type 0 where
  moved : new + lists_size ls ≡ old + length xs
  room : 6 * length xs ≤ old

both : (a b c d : ℕ) (xs ys : List Bound) (ls ms : List Tree) → Sized a b xs ls → Sized c d ys ms → Sized (a + c) (b + d) (xs ++ ys) (ls ++ ms)
both a b c d xs ys ls ms h k =
    let names = length-append xs ys in
    let lists = size-append ls ms in
    record { moved = omega (arith, h.moved, k.moved); room = omega (arith, h.room, k.room) }

-- a helper has three nodes, and a list of texts two
helper-size : (f : Tree) → is_leaving_out (helper_of f) ≡ true → 3 ≤ tree_size f
helper-size (node MemberExpression l (one (node j m gs) then (one (node k n hs) then fs))) e = omega arith
helper-size _ e = absurd (cc e)

list-size : (t : Tree) → is_text_list t ≡ true → 2 ≤ tree_size t
list-size (node ArrayExpression l (one (node StringLiteral m gs) then fs)) e = omega arith
list-size _ e = absurd (cc e)

mutual
  size-tree : {deep : Bool} {t u : Tree} {xs : List Bound} {ls : List Tree} → Shares deep t xs ls u → Sized (tree_size t) (tree_size u) xs ls
  size-tree (keeps out h) = let inner = size-in h in record { moved = omega (arith, inner.moved); room = omega (arith, inner.room) }
  size-tree (shares {l = l} {f = f} {s = s} {ks = ks} {xs = xs} {ls = ls} x out h) =
      let parts = taken-parts l f s ks out in
      let helper = helper-size f parts.0 in
      let list = list-size ks parts.1 in
      let inner = size-tree h in
      let names = length-append xs (x ∷ []) in
      let lists = size-append ls (ks ∷ []) in
      record { moved = omega (arith, inner.moved); room = omega (arith, inner.room) }

  size-in : {deep : ℕ → Bool} {fs gs : Fields} {xs : List Bound} {ls : List Tree} → SharesIn deep fs xs ls gs → Sized (fields_size fs) (fields_size gs) xs ls
  size-in ends = record { moved = omega arith; room = omega arith }
  size-in (goes {f = f} {g = g} {fs = fs} {gs = gs} {xs = xs} {ys = ys} {ls = ls} {ms = ms} h k) = both (field_size f) (field_size g) (fields_size fs) (fields_size gs) xs ys ls ms (size-by h) (size-in k)

  size-by : {deep : Bool} {f g : Field} {xs : List Bound} {ls : List Tree} → SharesBy deep f xs ls g → Sized (field_size f) (field_size g) xs ls
  size-by at_none = record { moved = omega arith; room = omega arith }
  size-by (at_one h) = size-tree h
  size-by (at_many h) = size-all h
  size-by (at_statements h) = size-all h

  size-all : {deep : Bool} {ts us : Trees} {xs : List Bound} {ls : List Tree} → SharesAll deep ts xs ls us → Sized (trees_size ts) (trees_size us) xs ls
  size-all none = record { moved = omega arith; room = omega arith }
  size-all (next {t = t} {u = u} {ts = ts} {us = us} {xs = xs} {ys = ys} {ls = ls} {ms = ms} h k) = both (tree_size t) (tree_size u) (trees_size ts) (trees_size us) xs ys ls ms (size-tree h) (size-all k)

-- CONSTANTS

size-declarators : (bs : List Bound) (ls : List Tree) → trees_size (trees (map declarator_of (constants_of bs ls))) ≤ 2 * length bs + lists_size ls
size-declarators [] ls = omega arith
size-declarators (b ∷ bs) [] = omega arith
size-declarators (b ∷ bs) (t ∷ ts) = let rest = size-declarators bs ts in omega arith

size-constants : (bs : List Bound) (ls : List Tree) (t : Tree) → tree_size (with_constants (constants_of bs ls) t) ≤ tree_size t + 2 * length bs + lists_size ls + 1
size-constants [] ls t = omega arith
size-constants (b ∷ bs) [] t = omega arith
size-constants (b ∷ bs) (l ∷ ls) t =
    let top = size-top (the_constants (constants_of (b ∷ bs) (l ∷ ls)) before empty) t in
    let more = size-declarators (b ∷ bs) (l ∷ ls) in
    omega arith

pub law_shared_size_proof : LawSharedSize
law_shared_size_proof in_use p q names h =
    let same = sym (tree_size-bare q) ∙ (ap tree_size h.written ∙ tree_size-bare (with_constants (constants_of (unmarked names) h.lists) h.shared)) in
    let all = size-tree h.shares in
    let top = size-constants (unmarked names) h.lists h.shared in
    omega (arith, all.moved, all.room)
