-- The rule of statements that import is one under which names keep their bindings.
use Rattle.std.proofs.Common.{◌≤◌, ◌<◌, ◌≡◌, ℕ, refl, sym, subst, [], ◌∷◌}
use Rattle.std.specs.Prelude.{Bool, true, false, Option, None, codes}
use Rattle.es_tree.specs.Words.{Text}
use Rattle.es_tree.specs.Tree.{Tree, node, Trees, empty, ◌before◌}
use Rattle.es_tree.specs.declared.ast_type.AstType.TheVariants.{Identifier}
use Rattle.es_resolution.specs.Declarations.{Bound}
use Rattle.es_resolution.specs.Named.{NamedAll}
use Rattle.es_steps.specs.Identifiers.{Passes, PassesAll}
use Rattle.es_steps.specs.Nodes.{identifier, joined_trees}
use Rattle.es_steps.specs.Open.{Additions, Pending, whole_list}
use Rattle.es_steps.specs.Rules.{next_name, with_made}
use Rattle.es_steps.specs.Steps.{Ledger, Site, Spot, Whole}
use Rattle.es_steps.specs.Steps.Ledger.{ledger}
use Rattle.es_steps.specs.Steps.Spot.{at_beside, at_body, at_list, at_node, at_trees}
use Rattle.es_steps.proofs.Kept.{KeptAll}
use Rattle.es_steps.proofs.Kept.Change.{below, lexed}
use Rattle.es_steps.proofs.Numbered.{numbered-old}
use Rattle.es_steps.proofs.OneName.{knowing, one-taken}
use Rattle.es_steps.proofs.Opened.{written-none}
use Rattle.es_steps.proofs.RulesWrite.{longer, one-new}
use Rattle.es_steps.proofs.Taken.{Allows, Lawful, LedgerPasses, Outcome, TreesKept, Writes, whole_in}
use Rattle.es_top_imports.specs.TopImports.{TopRule, top_of}
use Rattle.es_top_imports.specs.TopImports.TopRule.{imports}
use Rattle.es_top_imports.proofs.TopKept.{behind, change_of, the_statement}

-- A RULE THAT ACTS ON LISTS ALONE

abbrev pub IsListed : Spot → Type 0
IsListed (at_list p x a ts) = Unit {0}
IsListed x = ⊥

module _ (R : Site → Ledger → Spot → Ledger → Spot → Type 0) (alone : (n : Site) (s s' : Ledger) (x y : Spot) → R n s x s' y → IsListed x) where
  pub lists-lawful : ((n : Site) (s s' : Ledger) (p q : Pending) (x y : Option Bound) (a b : Additions) (ts us : Trees) → R n s (at_list p x a ts) s' (at_list q y b us) → NamedAll (whole_in s).in_use (whole_in s).free_symbol n.role (whole_list p x a ts) → Outcome (TreesKept n (whole_list p x a ts) (whole_list q y b us)) s s') → Lawful R
  lists-lawful lists = record {
    at_nodes = λ n s s' t u h used called. absurd (alone n s s' (at_node t) (at_node u) h);
    flanking = λ n s s' t u bs cs h used. absurd (alone n s s' (at_node t) (at_beside bs u cs) h);
    at_lists = lists;
    at_bodies = λ n s s' p t u h. absurd (alone n s s' (at_body p t) (at_node u) h);
    unflanking = λ n s s' t bs cs us h. absurd (alone n s s' (at_beside bs t cs) (at_trees us) h);
  }

  pub lists-write :
      ((n : Site) (s s' : Ledger) (x y : Spot) → R n s x s' y → (whole_in s).free_symbol ≤ (whole_in s').free_symbol) →
      ((n : Site) (s s' : Ledger) (x y : Spot) → R n s x s' y → (m : ℕ) → m < (whole_in s).free_symbol → (whole_in s').called m ≡ (whole_in s).called m) →
      ((q : Text → Option ℕ → Bool) (n : Site) (s s' : Ledger) (p p' : Pending) (x y : Option Bound) (a b : Additions) (ts us : Trees) → Allows q (whole_in s) (whole_in s') → LedgerPasses q s → R n s (at_list p x a ts) s' (at_list p' y b us) → PassesAll q (whole_list p x a ts) → PassesAll q (whole_list p' y b us) × LedgerPasses q s') →
      Writes R
  lists-write grows called lists = record {
    imports = λ n s s' t u h. absurd (alone n s s' (at_node t) (at_node u) h);
    flanks_none = λ n s s' t u bs cs h. absurd (alone n s s' (at_node t) (at_beside bs u cs) h);
    no_names = λ n s s' l fs y e h. absurd (alone n s s' (at_node (node Identifier l fs)) y h);
    freer = grows;
    same_called = called;
    names = λ q n s s' t u a b h k. absurd (alone n s s' (at_node t) (at_node u) h);
    names_beside = λ q n s s' t u bs cs a b h k. absurd (alone n s s' (at_node t) (at_beside bs u cs) h);
    names_in_lists = lists;
  }

-- THE RULE of imports is one

lists-alone : (in_module : Bool) (n : Site) (s s' : Ledger) (x y : Spot) → TopRule in_module n s x s' y → IsListed x
lists-alone in_module n s s' x y (imports before_it after_it source v top free knows) = tt

one-change : (o : Pending) (z : Option Bound) (c : Additions) (w : Whole) (v : Text) (free : w.in_use v ≡ false) (in_module : Bool) (n : Site) (ts us : Trees) → KeptAll (knowing w v free) n.names (change_of in_module) n.role ts us → Outcome (TreesKept n ts us) (ledger w o z c) (ledger (with_made (next_name w v ∷ []) w) o z c)
one-change o z c w v free true n ts us kept = one-taken o z c w v free lexed refl kept
one-change o z c w v free false n ts us kept = one-taken o z c w v free below refl kept

-- WHAT IS WRITTEN passes a test that its name and words pass

pub passes-between : (q : Text → Option ℕ → Bool) (before_it : Trees) (t : Tree) (after_it : Trees) → Passes q t → PassesAll q (joined_trees before_it after_it) → PassesAll q (joined_trees before_it (t before after_it))
passes-between q empty t after_it h k = (h, k)
passes-between q (b before before_it) t after_it h k = (k.0, passes-between q before_it t after_it h k.1)

statement-passes : (q : Text → Option ℕ → Bool) (b : Bound) (source : Text) (in_module : Bool) → ((x : Text) → q x None ≡ true) → Passes q (identifier b) → Passes q (top_of in_module (record { source = source; local = b }))
statement-passes q b source true words h = (tt, (((tt, (h, tt)), tt), ((tt, tt), (tt, tt))))
statement-passes q b source false words h = (tt, (((tt, (h, ((tt, (((words (codes "require"), tt), (((tt, tt), tt), tt)))), tt))), tt), tt))

pub top-lawful : (in_module : Bool) → Lawful (TopRule in_module)
top-lawful in_module = lists-lawful (TopRule in_module) (lists-alone in_module) lists
  where
    lists : (n : Site) (s s' : Ledger) (p q : Pending) (x y : Option Bound) (a b : Additions) (ts us : Trees) → TopRule in_module n s (at_list p x a ts) s' (at_list q y b us) → NamedAll (whole_in s).in_use (whole_in s).free_symbol n.role (whole_list p x a ts) → Outcome (TreesKept n (whole_list p x a ts) (whole_list q y b us)) s s'
    lists n s s' p q x y a b ts us (imports {w = w} {p = o} {y = z} {a = c} before_it after_it source v top free knows) used =
        let old = joined_trees before_it after_it in
        let new = joined_trees before_it (the_statement n w source v free in_module before after_it) in
        let plain = subst (λ (z : Trees). NamedAll w.in_use w.free_symbol n.role z) (written-none old) used in
        let kept = behind n w source v free in_module knows before_it after_it plain in
        let k = knowing w v free in
        let change = change_of in_module in
        one-change o z c w v free in_module n (whole_list p x a old) (whole_list q y b new)
        (subst (λ (t : Trees). KeptAll k n.names change n.role t (whole_list q y b new)) (sym (written-none old))
        (subst (λ (t : Trees). KeptAll k n.names change n.role old t) (sym (written-none new)) kept))

pub top-writes : (in_module : Bool) → Writes (TopRule in_module)
top-writes in_module = lists-write (TopRule in_module) (lists-alone in_module) grows called lists
  where
    grows : (n : Site) (s s' : Ledger) (x y : Spot) → TopRule in_module n s x s' y → (whole_in s).free_symbol ≤ (whole_in s').free_symbol
    grows n s s' x y (imports {w = w} before_it after_it source v top free knows) = longer w.free_symbol 1

    called : (n : Site) (s s' : Ledger) (x y : Spot) → TopRule in_module n s x s' y → (m : ℕ) → m < (whole_in s).free_symbol → (whole_in s').called m ≡ (whole_in s).called m
    called n s s' x y (imports {w = w} before_it after_it source v top free knows) = numbered-old w.called w.free_symbol (next_name w v ∷ []) (refl, tt)

    lists : (q : Text → Option ℕ → Bool) (n : Site) (s s' : Ledger) (p p' : Pending) (x y : Option Bound) (a b : Additions) (ts us : Trees) → Allows q (whole_in s) (whole_in s') → LedgerPasses q s → TopRule in_module n s (at_list p x a ts) s' (at_list p' y b us) → PassesAll q (whole_list p x a ts) → PassesAll q (whole_list p' y b us) × LedgerPasses q s'
    lists q n s s' p p' x y a b ts us c d (imports {w = w} before_it after_it source v top free knows) k =
        let old = joined_trees before_it after_it in
        let new = joined_trees before_it (top_of in_module (record { source = source; local = next_name w v }) before after_it) in
        let plain = subst (λ (z : Trees). PassesAll q z) (written-none old) k in
        let it = statement-passes q (next_name w v) source in_module c.words (one-new q w v c) in
        (subst (λ (z : Trees). PassesAll q z) (sym (written-none new)) (passes-between q before_it _ after_it it plain), record { pending = d.pending; this = d.this; top = d.top })
