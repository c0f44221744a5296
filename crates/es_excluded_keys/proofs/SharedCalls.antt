-- A tree in which names stand for lists of excluded keys is that tree but for these lists, which gave way to names.
use Rattle.std.proofs.Common.{◌≡◌, ℕ, List, [], ◌∷◌, ◌++◌}
use Rattle.std.specs.Prelude.{Bool, true}
use Rattle.es_tree.specs.Tree.{Tree, Fields, Field, Trees}
use Rattle.es_resolution.specs.Declarations.{Bound}
use Rattle.es_resolution.proofs.Basics.{Each}
use Rattle.es_helper_calls.specs.TextLists.{is_text_list}
use Rattle.es_helper_calls.proofs.CalledTrees.{Calls, CallsAll, CallsBy, CallsIn, same-tree}
use Rattle.es_helper_calls.proofs.CalledTrees.Calls.{becomes}
use Rattle.es_helper_calls.proofs.CalledTrees.CallsAll.{next as calls_next, none as calls_none}
use Rattle.es_helper_calls.proofs.CalledTrees.CallsBy.{at_many as calls_many, at_none as calls_missing, at_one as calls_one, at_statements as calls_statements}
use Rattle.es_helper_calls.proofs.CalledTrees.CallsHere.{lists, stays}
use Rattle.es_helper_calls.proofs.CalledTrees.CallsIn.{ends as calls_end, goes as calls_go}
use Rattle.es_excluded_keys.specs.ExcludedKeys.{Shares, SharesAll, SharesBy, SharesIn}
use Rattle.es_excluded_keys.specs.ExcludedKeys.Shares.{keeps, shares}
use Rattle.es_excluded_keys.specs.ExcludedKeys.SharesAll.{next, none}
use Rattle.es_excluded_keys.specs.ExcludedKeys.SharesBy.{at_many, at_none, at_one, at_statements}
use Rattle.es_excluded_keys.specs.ExcludedKeys.SharesIn.{ends, goes}
use Rattle.es_excluded_keys.proofs.TakenCalls.{taken-parts}

-- where T is known of each name, and so P of a list and its name
module _ (T : Bound → Type 0) (P : Tree → Bound → Type 0) (way : (ks : Tree) (b : Bound) → is_text_list ks ≡ true → T b → P ks b) where
  each-first : (xs ys : List Bound) → Each T (xs ++ ys) → Each T xs
  each-first [] ys a = tt
  each-first (x ∷ xs) ys a = (a.0, each-first xs ys a.1)

  each-second : (xs ys : List Bound) → Each T (xs ++ ys) → Each T ys
  each-second [] ys a = a
  each-second (x ∷ xs) ys a = each-second xs ys a.1

  mutual
    pub shared-calls : {deep : Bool} {t u : Tree} {xs : List Bound} {ls : List Tree} → Shares deep t xs ls u → Each T xs → Calls P t u
    shared-calls (keeps out h) a = becomes (stays (calls-in h a))
    shared-calls (shares {l = l} {f = f} {s = s} {ks = ks} {xs = xs} x out h) a =
        let texts = (taken-parts l f s ks out).1 in
        becomes (lists x (way ks x texts (each-second xs (x ∷ []) a).0) texts (same-tree P f) (shared-calls h (each-first xs (x ∷ []) a)))

    calls-in : {deep : ℕ → Bool} {fs gs : Fields} {xs : List Bound} {ls : List Tree} → SharesIn deep fs xs ls gs → Each T xs → CallsIn P fs gs
    calls-in ends a = calls_end
    calls-in (goes {xs = xs} {ys = ys} h k) a = calls_go (calls-by h (each-first xs ys a)) (calls-in k (each-second xs ys a))

    calls-by : {deep : Bool} {f g : Field} {xs : List Bound} {ls : List Tree} → SharesBy deep f xs ls g → Each T xs → CallsBy P f g
    calls-by at_none a = calls_missing
    calls-by (at_one h) a = calls_one (shared-calls h a)
    calls-by (at_many h) a = calls_many (calls-all h a)
    calls-by (at_statements h) a = calls_statements (calls-all h a)

    calls-all : {deep : Bool} {ts us : Trees} {xs : List Bound} {ls : List Tree} → SharesAll deep ts xs ls us → Each T xs → CallsAll P ts us
    calls-all none a = calls_none
    calls-all (next {xs = xs} {ys = ys} h k) a = calls_next (shared-calls h (each-first xs ys a)) (calls-all k (each-second xs ys a))
