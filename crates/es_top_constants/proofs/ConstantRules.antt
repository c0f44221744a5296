-- The rule of a statement of constants that comes into a list: names keep their bindings under it.
use Rattle.std.proofs.Common.{arith, ◌≤◌, ◌<◌, ◌≡◌, ℕ, refl, sym, ap, subst, ◌∙◌, List, [], ◌∷◌, ◌++◌}
use Rattle.std.specs.Prelude.{Bool, true, false, ◌||◌, Option, Some, None, codes, map}
use Rattle.std.specs.List.{list_any}
use Rattle.std.proofs.lemmas.List.Folds.{list_any-append}
use Rattle.es_tree.specs.Words.{Text}
use Rattle.es_tree.specs.Tree.{Trees, ◌before◌, trees}
use Rattle.es_resolution.specs.Declarations.{Bound, declared_among, sought}
use Rattle.es_resolution.specs.Named.{NamedAll}
use Rattle.es_resolution.proofs.Basics.{either_of, sought-append}
use Rattle.es_resolution.proofs.MoreNames.{named-more-all}
use Rattle.es_steps.specs.Identifiers.{PassesAll}
use Rattle.es_steps.specs.Nodes.{joined_trees}
use Rattle.es_steps.specs.Open.{Additions, Pending, no_additions, nothing_pending, whole_list}
use Rattle.es_steps.specs.Steps.{Ledger, Site, Spot, Whole}
use Rattle.es_steps.specs.Steps.Ledger.{ledger}
use Rattle.es_steps.specs.Steps.Spot.{at_list}
use Rattle.es_steps.proofs.Kept.{Adds, Each, KeptAll, Known, plain}
use Rattle.es_steps.proofs.Kept.Change.{lexed}
use Rattle.es_steps.proofs.Opened.{written-none}
use Rattle.es_steps.proofs.Same.{any-parameters, plain-agree, same-all}
use Rattle.es_steps.proofs.Scopes.{no-scopes-all}
use Rattle.es_steps.proofs.Taken.{Allows, Lawful, LedgerPasses, Outcome, TreesKept, Writes, whole_in}
use Rattle.es_steps.proofs.Taken.Goes.{to_list}
use Rattle.es_steps.proofs.Written.{kept-joined, named-joined, nil-right, the_role}
use Rattle.es_top_imports.specs.Laws.{with_each}
use Rattle.es_top_imports.proofs.TopRules.{IsListed, lists-lawful, lists-write, passes-between}
use Rattle.es_top_constants.specs.Laws.{AreLists, names_of}
use Rattle.es_top_constants.specs.TopConstants.{Constant, declarator_of}
use Rattle.es_top_constants.proofs.Constants.{constants-declare, constants-hoist, constants-named, constants-pass, constants-resolved, constants-scopes, the_constants}
use Rattle.es_top_constants.proofs.EachNew.{AllNew, each-called, each-freer, each-passes, knowing_each}

pub data ConstantRule : Site → Ledger → Spot → Ledger → Spot → Type 0 where
  declares : {n : Site} {w : Whole} {p : Pending} {y : Option Bound} {a : Additions} (before_it after_it : Trees) (cs : List Constant) → AllNew w (names_of cs) → AreLists w cs →
      ConstantRule n (ledger w p y a) (at_list nothing_pending None no_additions (joined_trees before_it after_it)) (ledger (with_each (names_of cs) w) p y a) (at_list nothing_pending None no_additions (joined_trees before_it (the_constants cs before after_it)))

-- THE STATEMENT IN A LIST

none-found : (a : Known) (y : Text) → a.in_use y ≡ true → sought a.given y ≡ None
none-found a y u = at (sought a.given y) refl
  where
    at : (o : Option (Option ℕ)) → sought a.given y ≡ o → o ≡ None
    at None e = refl
    at (Some o) e = absurd (cc (a.fresh y o e, u))

none-of : (q : Bound → Bool) (bs : List Bound) → Each (λ b. q b ≡ false) bs → list_any q bs ≡ false
none-of q [] h = refl
none-of q (b ∷ bs) h = λ i. h.0 i || none-of q bs h.1 i

adds-given : (a : Known) (ds : List Bound) → Adds a ds (a.given ++ ds)
adds-given a ds = record {
  used = λ y u. sought-append a.given ds y ∙ ap (λ z. either_of z (sought ds y)) (none-found a y u);
  new = λ y o g. sought-append a.given ds y ∙ ap (λ z. either_of z (sought ds y)) g;
  others = λ q g. list_any-append q a.given ds ∙ ap (λ z. z || list_any q ds) (none-of q a.given g);
}

module _ (n : Site) (w : Whole) (cs : List Constant) (new : AllNew w (names_of cs)) (lists : AreLists w cs) where
  abbrev known : Known
  known = knowing_each (names_of cs) w new

  first : (ts : Trees) → NamedAll w.in_use w.free_symbol n.role ts → KeptAll known n.names lexed n.role ts (the_constants cs before ts)
  first ts used = record {
    lexical = subst (λ (bs : List Bound). Adds known (declared_among false n.role ts) (bs ++ declared_among false n.role ts)) (sym (nil-right (declared_among false (the_role (codes "const")) (trees (map declarator_of cs))) ∙ constants-declare w cs lists)) (adds-given known (declared_among false n.role ts));
    hoisted = λ j. (constants-hoist w cs lists j ++ []) ++ declared_among true n.role ts;
    named = (((tt, tt), (constants-named w known.in_use_after w.free_symbol known.free_after (names_of cs) known.more known.freer cs lists known.range known.sound, tt)), named-more-all w.in_use known.in_use_after known.more w.free_symbol known.free_after known.freer n.role ts used);
    scopes = λ z ps d. let e = constants-scopes w z cs lists in omega arith;
    new_scopes = λ z ps d. let e = constants-scopes w z cs lists in let f = no-scopes-all w.in_use w.free_symbol z d ps n.role ts used in omega arith;
    resolved = λ p q a ps v k d. ((tt, refl, (constants-resolved w known q v cs lists known.sound, tt)), (same-all (plain known) n.names n.role ts used).resolved p q (plain-agree known p q a) (any-parameters known lexed p q ps) tt k d);
  }

  behind : (before_it after_it : Trees) → NamedAll w.in_use w.free_symbol n.role (joined_trees before_it after_it) → KeptAll known n.names lexed n.role (joined_trees before_it after_it) (joined_trees before_it (the_constants cs before after_it))
  behind before_it after_it used =
      let parts = named-joined w.in_use w.free_symbol n.role before_it after_it used in
      kept-joined known n.names lexed n.role before_it after_it (the_constants cs before after_it) parts.0 (first after_it parts.1)

  outcome : (o : Pending) (z : Option Bound) (c : Additions) (ts us : Trees) → KeptAll known n.names lexed n.role ts us → Outcome (TreesKept n ts us) (ledger w o z c) (ledger (with_each (names_of cs) w) o z c)
  outcome o z c ts us kept = record { given = known.given; change = lexed; goes = to_list; more = known.more; freer = known.freer; range = known.range; fresh = known.fresh; sound = known.sound; beside = record { pending = refl; this = refl; top = refl }; kept = kept }

-- THE RULE

alone : (n : Site) (s s' : Ledger) (x y : Spot) → ConstantRule n s x s' y → IsListed x
alone n s s' x y (declares before_it after_it cs new lists) = tt

pub constants-lawful : Lawful ConstantRule
constants-lawful = lists-lawful ConstantRule alone at_lists
  where
    at_lists : (n : Site) (s s' : Ledger) (p q : Pending) (x y : Option Bound) (a b : Additions) (ts us : Trees) → ConstantRule n s (at_list p x a ts) s' (at_list q y b us) → NamedAll (whole_in s).in_use (whole_in s).free_symbol n.role (whole_list p x a ts) → Outcome (TreesKept n (whole_list p x a ts) (whole_list q y b us)) s s'
    at_lists n s s' p q x y a b ts us (declares {w = w} {p = o} {y = z} {a = c} before_it after_it cs new lists) used =
        let old = joined_trees before_it after_it in
        let more = joined_trees before_it (the_constants cs before after_it) in
        let bare = subst (λ (z : Trees). NamedAll w.in_use w.free_symbol n.role z) (written-none old) used in
        let k = knowing_each (names_of cs) w new in
        outcome n w cs new lists o z c (whole_list p x a old) (whole_list q y b more)
        (subst (λ (t : Trees). KeptAll k n.names lexed n.role t (whole_list q y b more)) (sym (written-none old))
        (subst (λ (t : Trees). KeptAll k n.names lexed n.role old t) (sym (written-none more)) (behind n w cs new lists before_it after_it bare)))

pub constants-write : Writes ConstantRule
constants-write = lists-write ConstantRule alone grows called at_lists
  where
    grows : (n : Site) (s s' : Ledger) (x y : Spot) → ConstantRule n s x s' y → (whole_in s).free_symbol ≤ (whole_in s').free_symbol
    grows n s s' x y (declares {w = w} before_it after_it cs new lists) = each-freer (names_of cs) w

    called : (n : Site) (s s' : Ledger) (x y : Spot) → ConstantRule n s x s' y → (m : ℕ) → m < (whole_in s).free_symbol → (whole_in s').called m ≡ (whole_in s).called m
    called n s s' x y (declares {w = w} before_it after_it cs new lists) = each-called (names_of cs) w new

    at_lists : (q : Text → Option ℕ → Bool) (n : Site) (s s' : Ledger) (p p' : Pending) (x y : Option Bound) (a b : Additions) (ts us : Trees) → Allows q (whole_in s) (whole_in s') → LedgerPasses q s → ConstantRule n s (at_list p x a ts) s' (at_list p' y b us) → PassesAll q (whole_list p x a ts) → PassesAll q (whole_list p' y b us) × LedgerPasses q s'
    at_lists q n s s' p p' x y a b ts us c d (declares {w = w} before_it after_it cs new lists) k =
        let bare = subst (λ (z : Trees). PassesAll q z) (written-none (joined_trees before_it after_it)) k in
        let more = passes-between q before_it (the_constants cs) after_it (tt, (constants-pass w q cs lists (each-passes q (names_of cs) w new c), tt)) bare in
        (subst (λ (z : Trees). PassesAll q z) (sym (written-none (joined_trees before_it (the_constants cs before after_it)))) more, record { pending = d.pending; this = d.this; top = d.top })
