-- Statements with their lists around them, step by step and as a store shows them.
use Rattle.std.proofs.Common.{◌≡◌, ℕ, ◌+◌, ◌≤◌, refl, sym, ◌∙◌, ap, Bool, true, false, true≢false, cond, ◌||◌, is_some, List, [], ◌∷◌, ◌++◌, map, length, append_assoc, arith, length-append, subst}
use Rattle.std.proofs.Math.Path.{fun_ext}
use Rattle.std.specs.Prelude.{Option, Some, None, nat_eq}
use Rattle.std.specs.FinMap as finite
use Rattle.std.specs.Option.{option_map, unwrap_or}
use Rattle.es_tree.specs.Bare.{bare}
use Rattle.es_tree.specs.Tree.{Tree, label_of}
use Rattle.lower_stores.specs.Insertions.{Around, Insertions, StandsAmong, another, inserted, is_any_around, none_left, nothing_around, still_to_insert, surrounded, this_one}
use Rattle.lower_stores.specs.BareInsertions.{ById, bare_insertions, bare_lists, has_lists, lists_left, lists_length, room_for, surrounded_by, without, woven}
use Rattle.lower_stores.specs.declared.statement_injector.Lists.{Lists}
use Rattle.lower_stores.proofs.InsertionLemmas.{get-bare, get-removed, lists_in, remove_absent}

-- STEP BY STEP

rest_of : (f g : ById) (id : ℕ) (s : Tree) → id ≡ (label_of s).id → ((q : ℕ) → g q ≡ without id f q) → g ≡ without (label_of s).id f
rest_of f g id s e h = fun_ext h ∙ ap (λ id. without id f) e

pub woven_step : (f g : ById) (id : ℕ) (s : Tree) (ss : List Tree) (l : Option Lists) → id ≡ (label_of s).id → l ≡ f id → ((q : ℕ) → g q ≡ without id f q) → woven f (s ∷ ss) ≡ surrounded_by l s ++ woven g ss
woven_step f g id s ss l e there h =
    λ i. surrounded_by (sym (there ∙ ap f e) i) s ++ woven (sym (rest_of f g id s e h) i) ss

pub left_step : (f g : ById) (id : ℕ) (s : Tree) (ss : List Tree) (q : ℕ) → id ≡ (label_of s).id → ((q : ℕ) → g q ≡ without id f q) → lists_left g ss q ≡ lists_left f (s ∷ ss) q
left_step f g id s ss q e h = ap (λ g. lists_left g ss q) (rest_of f g id s e h)

-- ROOM

length-surrounded_by : (l : Option Lists) (s : Tree) → length (surrounded_by l s) ≡ lists_length l + 1
length-surrounded_by None s = refl
length-surrounded_by (Some l) s = let e = length-append l.befores.items (s ∷ l.afters.items) in omega (arith, e)

lists_length-without : (b : Bool) (l : Option Lists) (n : ℕ) → lists_length l ≤ n → lists_length (cond b None l) ≤ n
lists_length-without true l n h = omega arith
lists_length-without false l n h = h

pub length-woven : (f g : ById) (ss : List Tree) → ((q : ℕ) → lists_length (g q) ≤ lists_length (f q)) → length (woven g ss) ≤ room_for f ss
length-woven f g [] h = omega arith
length-woven f g (s ∷ ss) h =
    let id = (label_of s).id in
    let rest = length-woven f (without id g) ss (λ q. lists_length-without (nat_eq id q) (g q) (lists_length (f q)) (h q)) in
    let whole = length-append (surrounded_by (g id) s) (woven (without id g) ss) in
    let here = length-surrounded_by (g id) s in
    let fewer = h id in
    omega (arith, rest, whole, here, fewer)

-- AS A STORE SHOWS THEM

-- these insertions are those of the lists
abbrev pub Shows : Insertions → ById → Type 0
Shows m f = (q : ℕ) → finite.get m q ≡ option_map bare_lists (f q)

shows_choice : (b : Bool) (r : Option Lists) → cond b None (option_map bare_lists r) ≡ option_map bare_lists (cond b None r)
shows_choice true r = refl
shows_choice false r = refl

shows-without : (m : Insertions) (f : ById) (id : ℕ) → Shows m f → Shows (finite.remove m id) (without id f)
shows-without m f id h = λ q. get-removed m id q ∙ ap (cond (nat_eq id q) None) (h q) ∙ shows_choice (nat_eq id q) (f q)

map-append : (xs ys : List Tree) → map bare (xs ++ ys) ≡ map bare xs ++ map bare ys
map-append [] ys = refl
map-append (x ∷ xs) ys = ap (λ l. bare x ∷ l) (map-append xs ys)

bare-surrounded_by : (l : Option Lists) (s : Tree) → map bare (surrounded_by l s) ≡ surrounded (unwrap_or (option_map bare_lists l) nothing_around) (bare s)
bare-surrounded_by None s = refl
bare-surrounded_by (Some l) s = map-append l.befores.items (s ∷ l.afters.items)

pub bare-woven : (m : Insertions) (f : ById) (ss : List Tree) → Shows m f → map bare (woven f ss) ≡ inserted m ss
bare-woven m f [] h = refl
bare-woven m f (s ∷ ss) h =
    let id = (label_of s).id in
    map-append (surrounded_by (f id) s) (woven (without id f) ss)
    ∙ (λ i. (bare-surrounded_by (f id) s ∙ ap (λ o. surrounded (unwrap_or o nothing_around) (bare s)) (sym (h id))) i ++ bare-woven (finite.remove m id) (without id f) ss (shows-without m f id h) i)

pub shows-left : (m : Insertions) (f : ById) (ss : List Tree) → Shows m f → Shows (still_to_insert m ss) (lists_left f ss)
shows-left m f [] h = h
shows-left m f (s ∷ ss) h = let id = (label_of s).id in shows-left (finite.remove m id) (without id f) ss (shows-without m f id h)

-- WHOLE AND IN ORDER

pub behind : (xs ss us : List Tree) → StandsAmong ss us → StandsAmong ss (xs ++ us)
behind [] ss us h = h
behind (x ∷ xs) ss us h = another x ss (xs ++ us) (behind xs ss us h)

among_surrounded : (l : Option Lists) (s : Tree) (ss us : List Tree) → StandsAmong ss us → StandsAmong (s ∷ ss) (surrounded_by l s ++ us)
among_surrounded None s ss us h = this_one s ss us h
among_surrounded (Some l) s ss us h =
    subst (StandsAmong (s ∷ ss)) (sym (append_assoc l.befores.items (s ∷ l.afters.items) us))
    (behind l.befores.items (s ∷ ss) (s ∷ (l.afters.items ++ us)) (this_one s ss (l.afters.items ++ us) (behind l.afters.items ss us h)))

pub among-woven : (f : ById) (ss : List Tree) → StandsAmong ss (woven f ss)
among-woven f [] = none_left []
among-woven f (s ∷ ss) =
    let id = (label_of s).id in among_surrounded (f id) s ss (woven (without id f) ss) (among-woven (without id f) ss)

-- AT ONCE

pub shows_all : (m : Insertions) (es : List (ℕ × Lists)) → bare_insertions es ≡ m → Shows m (lists_in es)
shows_all m es e = λ q. ap (λ n. finite.get n q) (sym e) ∙ get-bare es q

pub written_whole : (ts us ss rs : List Tree) (f : ById) → ts ≡ us ++ woven f ss → us ≡ [] → ss ≡ rs → ts ≡ woven f rs
written_whole ts us ss rs f e h g = e ∙ (λ i. h i ++ woven f (g i))

-- WHERE NOTHING STANDS AROUND

none_there : (r : Option Around) → is_some r ≡ false → r ≡ None
none_there None h = refl
none_there (Some a) h = absurd (true≢false h)

neither : (a b : Bool) → (a || b) ≡ false → (a ≡ false) × (b ≡ false)
neither true b h = absurd (true≢false h)
neither false b h = (refl, h)

some_or_none : (r : Option Lists) → is_some (option_map bare_lists r) ≡ is_some r
some_or_none None = refl
some_or_none (Some l) = refl

pub any_around : (m : Insertions) (f : ById) (ss : List Tree) → Shows m f → is_any_around m ss ≡ has_lists f ss
any_around m f [] h = refl
any_around m f (s ∷ ss) h =
    let id = (label_of s).id in λ i. (ap is_some (h id) ∙ some_or_none (f id)) i || any_around m f ss h i

pub none_inserted : (m : Insertions) (ss : List Tree) → is_any_around m ss ≡ false → inserted m ss ≡ map bare ss
none_inserted m [] h = refl
none_inserted m (s ∷ ss) h =
    let id = (label_of s).id in
    let parts = neither (is_some (finite.get m id)) (is_any_around m ss) h in
    let none = none_there (finite.get m id) parts.0 in
    (λ i. surrounded (unwrap_or (none i) nothing_around) (bare s) ++ inserted (remove_absent m id none i) ss) ∙ ap (λ l. bare s ∷ l) (none_inserted m ss parts.1)

pub none_taken : (m : Insertions) (ss : List Tree) → is_any_around m ss ≡ false → still_to_insert m ss ≡ m
none_taken m [] h = refl
none_taken m (s ∷ ss) h =
    let id = (label_of s).id in
    let parts = neither (is_some (finite.get m id)) (is_any_around m ss) h in
    ap (λ n. still_to_insert n ss) (remove_absent m id (none_there (finite.get m id) parts.0)) ∙ none_taken m ss parts.1

-- what a test for lists says of the store
pub none_around : (m : Insertions) (es : List (ℕ × Lists)) (ss : List Tree) (b : Bool) → bare_insertions es ≡ m → b ≡ has_lists (lists_in es) ss → b ≡ false → is_any_around m ss ≡ false
none_around m es ss b e there h = any_around m (lists_in es) ss (shows_all m es e) ∙ sym there ∙ h

pub some_around : {X : Type 0} (m : Insertions) (es : List (ℕ × Lists)) (ss : List Tree) (b : Bool) → bare_insertions es ≡ m → b ≡ has_lists (lists_in es) ss → b ≡ true → is_any_around m ss ≡ false → X
some_around m es ss b e there h none = absurd (true≢false (sym (any_around m (lists_in es) ss (shows_all m es e) ∙ sym there ∙ h) ∙ none))
