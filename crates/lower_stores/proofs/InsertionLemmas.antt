-- What a store of insertions shows after each change of its table.
use Rattle.std.proofs.lemmas.Bool.{eqb-true}
use Rattle.std.proofs.Common.{◌≡◌, ℕ, refl, sym, ◌∙◌, ap, Bool, true, false, cond, List, [], ◌∷◌, ◌++◌, map, append-nil, HashMap, BuildHasherDefault, FoldHasher}
use Rattle.std.specs.Prelude.{Option, Some, None, nat_eq}
use Rattle.std.specs.Cmp.{nat_cmp_total, nat_eq_equiv, unsigned_tied}
use Rattle.std.specs.FinMap as finite
use Rattle.std.specs.FinMap.{find, get-from_entries, get-insert, get-remove, nat_cmp-IsAntisymmetric, same_map}
use Rattle.std.specs.Map.{lookup}
use Rattle.std.specs.Option.{option_map, option_map_or, unwrap_or}
use Rattle.std.specs.Ordering.{eq_by_cmp, nat_cmp}
use Rattle.es_tree.specs.Bare.{bare}
use Rattle.es_tree.specs.Tree.{Tree}
use Rattle.lower_stores.specs.Insertions.{Around, Insertions, around_at, moved, nothing_around, with_around, with_before, with_lists, with_many_after, with_many_before}
use Rattle.lower_stores.specs.BareInsertions.{bare_entry, bare_insertions, bare_lists}
use Rattle.lower_stores.specs.declared.statement_injector.Lists.{Lists}

-- TABLES AND WHAT THEY SHOW

abbrev pub Table : Type 0
Table = HashMap ℕ Lists (BuildHasherDefault FoldHasher)

abbrev pub shown : Table → Insertions
shown t = bare_insertions t.entries

-- the lists of an id, in a table
abbrev pub lists_in : List (ℕ × Lists) → ℕ → Option Lists
lists_in es q = lookup (nat_eq q) es

shown_choice : (b : Bool) (l : Lists) (r : Option Lists) → cond b (Some (bare_lists l)) (option_map bare_lists r) ≡ option_map bare_lists (cond b (Some l) r)
shown_choice true l r = refl
shown_choice false l r = refl

find-bare : (es : List (ℕ × Lists)) (q : ℕ) → find nat_cmp q (map bare_entry es) ≡ option_map bare_lists (lists_in es q)
find-bare [] q = refl
find-bare (e ∷ es) q =
    (λ i. cond (unsigned_tied q e.0 i) (Some (bare_lists e.1)) (find-bare es q i)) ∙ shown_choice (nat_eq q e.0) e.1 (lists_in es q)

pub get-bare : (es : List (ℕ × Lists)) (q : ℕ) → finite.get (bare_insertions es) q ≡ option_map bare_lists (lists_in es q)
get-bare es q = get-from_entries nat_cmp_total (map bare_entry es) q ∙ find-bare es q

pub same_insertions : (m n : Insertions) → ((q : ℕ) → finite.get m q ≡ finite.get n q) → m ≡ n
same_insertions m n h = same_map nat_cmp_total nat_cmp-IsAntisymmetric m n h

-- the test of a key, as a change of a map and of a table write it
tied : (q k : ℕ) → eq_by_cmp nat_cmp q k ≡ nat_eq k q
tied q k = unsigned_tied q k ∙ nat_eq_equiv.symm q k

pub get-inserted : (m : Insertions) (k : ℕ) (a : Around) (q : ℕ) → finite.get (finite.insert m k a) q ≡ cond (nat_eq k q) (Some a) (finite.get m q)
get-inserted m k a q = get-insert nat_cmp_total m k a q ∙ ap (λ b. cond b (Some a) (finite.get m q)) (tied q k)

pub get-removed : (m : Insertions) (k q : ℕ) → finite.get (finite.remove m k) q ≡ cond (nat_eq k q) None (finite.get m q)
get-removed m k q = get-remove nat_cmp_total m k q ∙ ap (λ b. cond b None (finite.get m q)) (tied q k)

-- CHANGES OF ONE ENTRY

-- the second table has these lists at the id, and else the lists of the first
abbrev pub ChangesTo : Option Lists → ℕ → List (ℕ × Lists) → List (ℕ × Lists) → Type 0
ChangesTo r k es fs = (q : ℕ) → lists_in fs q ≡ cond (nat_eq k q) r (lists_in es q)

pub changed : (es fs : List (ℕ × Lists)) (k : ℕ) (l : Lists) → ChangesTo (Some l) k es fs → bare_insertions fs ≡ finite.insert (bare_insertions es) k (bare_lists l)
changed es fs k l h =
    same_insertions (bare_insertions fs) (finite.insert (bare_insertions es) k (bare_lists l)) (λ q.
    get-bare fs q ∙ ap (option_map bare_lists) (h q) ∙ sym (shown_choice (nat_eq k q) l (lists_in es q))
    ∙ ap (cond (nat_eq k q) (Some (bare_lists l))) (sym (get-bare es q)) ∙ sym (get-inserted (bare_insertions es) k (bare_lists l) q))

no_lists : (b : Bool) (r : Option Lists) → option_map bare_lists (cond b None r) ≡ cond b None (option_map bare_lists r)
no_lists true r = refl
no_lists false r = refl

pub removed : (m : Insertions) (es fs : List (ℕ × Lists)) (k : ℕ) → bare_insertions es ≡ m → ChangesTo None k es fs → bare_insertions fs ≡ finite.remove m k
removed m es fs k e h =
    same_insertions (bare_insertions fs) (finite.remove (bare_insertions es) k) (λ q.
    get-bare fs q ∙ ap (option_map bare_lists) (h q) ∙ no_lists (nat_eq k q) (lists_in es q)
    ∙ ap (cond (nat_eq k q) None) (sym (get-bare es q)) ∙ sym (get-removed (bare_insertions es) k q))
    ∙ ap (λ n. finite.remove n k) e

-- what stands at an id that has lists, or none
pub get_at : (m : Insertions) (es : List (ℕ × Lists)) (k : ℕ) (r : Option Lists) → bare_insertions es ≡ m → r ≡ lists_in es k → finite.get m k ≡ option_map bare_lists r
get_at m es k r e h = ap (λ n. finite.get n k) (sym e) ∙ get-bare es k ∙ ap (option_map bare_lists) (sym h)

pub changed_at : (m : Insertions) (es fs : List (ℕ × Lists)) (k : ℕ) (l : Lists) → bare_insertions es ≡ m → ChangesTo (Some l) k es fs → bare_insertions fs ≡ finite.insert m k (bare_lists l)
changed_at m es fs k l e h = changed es fs k l h ∙ ap (λ n. finite.insert n k (bare_lists l)) e

pub changed_by : (m : Insertions) (es fs : List (ℕ × Lists)) (k : ℕ) (r : Option Lists) (l : Lists) (f : Around → Around) → bare_insertions es ≡ m → r ≡ lists_in es k → ChangesTo (Some l) k es fs → bare_lists l ≡ f (unwrap_or (option_map bare_lists r) nothing_around) → bare_insertions fs ≡ with_around f k m
changed_by m es fs k r l f e there h g =
    changed_at m es fs k l e h ∙ ap (finite.insert m k) (g ∙ ap (λ o. f (unwrap_or o nothing_around)) (sym (get_at m es k r e there)))

-- an entry that is put back
put_again : (b : Bool) (a : Around) (r s : Option Around) → (b ≡ true → r ≡ Some a) → cond b (Some a) r ≡ r
put_again true a r s h = sym (h refl)
put_again false a r s h = refl

pub insert_same : (m : Insertions) (k : ℕ) (a : Around) → finite.get m k ≡ Some a → finite.insert m k a ≡ m
insert_same m k a h =
    same_insertions (finite.insert m k a) m (λ q.
    get-inserted m k a q ∙ put_again (nat_eq k q) a (finite.get m q) (finite.get m k) (λ t. ap (finite.get m) (sym (eqb-true k q t)) ∙ h))

pub unchanged_at : (m : Insertions) (es fs : List (ℕ × Lists)) (k : ℕ) (old l : Lists) → bare_insertions es ≡ m → Some old ≡ lists_in es k → ChangesTo (Some l) k es fs → bare_lists l ≡ bare_lists old → bare_insertions fs ≡ m
unchanged_at m es fs k old l e there h g =
    changed_at m es fs k l e h ∙ insert_same m k (bare_lists l) (get_at m es k (Some old) e there ∙ ap Some (sym g))

-- EACH CALL

-- one list that has a statement more, or many
pub one_before : (m : Insertions) (k : ℕ) (l : Lists) (s : Tree) → l.befores.items ≡ s ∷ [] → l.afters.items ≡ [] → with_around (with_lists (bare_lists l)) k m ≡ with_around (with_before (bare s)) k m
one_before m k l s e h =
    let a = around_at m k in
    λ i. finite.insert m k (record { befores = a.befores ++ map bare (e i); afters = (ap (λ ss. a.afters ++ map bare ss) h ∙ append-nil a.afters) i })

pub many_after : (m : Insertions) (k : ℕ) (l : Lists) (ss : List Tree) → l.befores.items ≡ [] → l.afters.items ≡ ss → with_around (with_lists (bare_lists l)) k m ≡ with_around (with_many_after (map bare ss)) k m
many_after m k l ss e h =
    let a = around_at m k in
    λ i. finite.insert m k (record { befores = (ap (λ ss. a.befores ++ map bare ss) e ∙ append-nil a.befores) i; afters = a.afters ++ map bare (h i) })

-- WHAT IS MOVED

emptied_and_kept : (b : Bool) (a : Around) (r s : Option Around) → (b ≡ true → r ≡ Some a) → cond b (Some a) (cond b s r) ≡ r
emptied_and_kept true a r s h = sym (h refl)
emptied_and_kept false a r s h = refl

-- lists that were taken out and are put back
pub put_back_same : (m : Insertions) (k : ℕ) (a b : Around) → finite.get m k ≡ Some a → finite.insert (finite.insert m k b) k a ≡ m
put_back_same m k a b h =
    same_insertions (finite.insert (finite.insert m k b) k a) m (λ q.
    get-inserted (finite.insert m k b) k a q ∙ ap (cond (nat_eq k q) (Some a)) (get-inserted m k b q)
    ∙ emptied_and_kept (nat_eq k q) a (finite.get m q) (Some b) (λ t. ap (finite.get m) (sym (eqb-true k q t)) ∙ h))

pub get-emptied : (m : Insertions) (k : ℕ) (a : Around) → finite.get (finite.insert m k a) k ≡ Some a
get-emptied m k a = get-inserted m k a k ∙ ap (λ b. cond b (Some a) (finite.get m k)) (nat_eq_equiv.refl k)

apart : (b c : Bool) (x r s : Option Around) → (b ≡ true → c ≡ false) → cond b None (cond c x (cond b s r)) ≡ cond c x (cond b None r)
apart true c x r s h = sym (ap (λ c. cond c x None) (h refl))
apart false c x r s h = refl

not_both : (from to q : ℕ) → nat_eq from to ≡ false → nat_eq from q ≡ true → nat_eq to q ≡ false
not_both from to q e h = nat_eq_equiv.symm to q ∙ sym (nat_eq_equiv.congr from q to h) ∙ e

around_other : (b : Bool) (m n : Option Around) → b ≡ false → cond b m n ≡ n
around_other b m n e = ap (λ b. cond b m n) e

pub moved_lists : (m : Insertions) (from to : ℕ) (a : Around) → nat_eq from to ≡ false → finite.get m from ≡ Some a → finite.remove (with_around (with_lists a) to (finite.insert m from nothing_around)) from ≡ moved from to m
moved_lists m from to a e h =
    let emptied = finite.insert m from nothing_around in
    let rest = finite.remove m from in
    let there : around_at emptied to ≡ around_at rest to =
    ap (λ o. unwrap_or o nothing_around) (get-inserted m from nothing_around to ∙ around_other _ (Some nothing_around) (finite.get m to) e ∙ sym (around_other _ None (finite.get m to) e) ∙ sym (get-removed m from to)) in
    same_insertions (finite.remove (with_around (with_lists a) to emptied) from) (with_around (with_lists a) to rest) (λ q.
    get-removed (with_around (with_lists a) to emptied) from q
    ∙ ap (cond (nat_eq from q) None) (get-inserted emptied to (with_lists a (around_at emptied to)) q ∙ ap (cond (nat_eq to q) (Some (with_lists a (around_at emptied to)))) (get-inserted m from nothing_around q))
    ∙ apart (nat_eq from q) (nat_eq to q) (Some (with_lists a (around_at emptied to))) (finite.get m q) (Some nothing_around) (not_both from to q e)
    ∙ (λ i. cond (nat_eq to q) (Some (with_lists a (there i))) (sym (get-removed m from q) i))
    ∙ sym (get-inserted rest to (with_lists a (around_at rest to)) q))
    ∙ sym (ap (λ b. cond b m (option_map_or (λ lists. with_around (with_lists lists) to rest) (finite.get m from) m)) e ∙ ap (λ o. option_map_or (λ lists. with_around (with_lists lists) to rest) o m) h)

pub only_befores : (l : Lists) (ss : List Tree) → l.befores.items ≡ ss → l.afters.items ≡ [] → bare_lists l ≡ with_many_before (map bare ss) nothing_around
only_befores l ss e h = λ i. record { befores = (ap (map bare) e ∙ sym (append-nil (map bare ss))) i; afters = map bare (h i) }

pub empty_lists : (l m : Lists) → l ≡ m → m.befores.items ≡ [] → m.afters.items ≡ [] → bare_lists l ≡ nothing_around
empty_lists l m e g h = ap bare_lists e ∙ (λ i. record { befores = map bare (g i); afters = map bare (h i) })

-- WHERE NOTHING STANDS AROUND

absent : (b : Bool) (r : Option Around) → (b ≡ true → r ≡ None) → cond b None r ≡ r
absent true r h = sym (h refl)
absent false r h = refl

pub remove_absent : (m : Insertions) (k : ℕ) → finite.get m k ≡ None → finite.remove m k ≡ m
remove_absent m k h =
    same_insertions (finite.remove m k) m (λ q.
    get-removed m k q ∙ absent (nat_eq k q) (finite.get m q) (λ t. ap (finite.get m) (sym (eqb-true k q t)) ∙ h))
