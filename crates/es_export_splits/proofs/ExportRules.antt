-- The rule of exports that are split is one under which names keep their bindings.
use Rattle.std.proofs.Common.{◌≤◌, ◌<◌, ◌≡◌, ℕ, refl, sym, subst, List, [], ◌∷◌}
use Rattle.std.specs.Prelude.{Bool, true, Option, None}
use Rattle.es_tree.specs.Words.{Text}
use Rattle.es_tree.specs.Tree.{Tree, node, Label, Fields, ◌then◌, many, Trees, empty, ◌before◌, label_of}
use Rattle.es_tree.specs.declared.ast_type.AstType.TheVariants.{VariableDeclaration}
use Rattle.es_resolution.specs.Declarations.{Bound, symbol_of}
use Rattle.es_resolution.specs.Named.{NamedAll}
use Rattle.es_steps.specs.Identifiers.{Passes, PassesAll, PassesBy, PassesIn}
use Rattle.es_steps.specs.Nodes.{joined_trees}
use Rattle.es_steps.specs.Open.{Additions, Pending, whole_list}
use Rattle.es_steps.specs.Steps.{Ledger, Site, Spot}
use Rattle.es_steps.specs.Steps.Ledger.{ledger}
use Rattle.es_steps.specs.Steps.Spot.{at_list}
use Rattle.es_steps.proofs.Kept.{Change, KeptAll, Known}
use Rattle.es_steps.proofs.Kept.Change.{sealed}
use Rattle.es_steps.proofs.Opened.{written-none}
use Rattle.es_steps.proofs.Taken.{Allows, Lawful, LedgerPasses, Outcome, TreesKept, Writes, at-least, none-some, nothing_new, whole_in}
use Rattle.es_steps.proofs.Taken.Goes.{to_list}
use Rattle.es_export_splits.specs.SplitRule.{EachTree, ExportRule}
use Rattle.es_export_splits.specs.SplitRule.ExportRule.{splits}
use Rattle.es_export_splits.specs.Splits.{names_of_declaration, specifiers, split_before, text_of, with_symbols}
use Rattle.es_export_splits.proofs.ExportKept.{split-kept}
use Rattle.es_export_splits.proofs.ExportNames.{HandedOn, IsExport, declaration-names, export-is}
use Rattle.es_export_splits.proofs.ExportNames.IsExport.{is_export}

-- it acts on lists alone
abbrev IsListed : Spot → Type 0
IsListed (at_list p x a ts) = Unit {0}
IsListed x = ⊥

lists-alone : {n : Site} {s s' : Ledger} {x y : Spot} → ExportRule n s x s' y → IsListed x
lists-alone (splits before_it after_it t top e found) = tt

nothing-taken : (s : Ledger) {K : Known → Change → Type 0} → K (nothing_new (whole_in s)) sealed → Outcome K s s
nothing-taken s k = record { given = []; change = sealed; goes = to_list; more = λ y h. h; freer = at-least (whole_in s).free_symbol; range = tt; fresh = λ y o e. absurd (none-some o e); sound = tt; beside = record { pending = refl; this = refl; top = refl }; kept = k }

-- WHAT IS WRITTEN passes a test that the names of the declaration and words pass

module _ (q : Text → Option ℕ → Bool) where
  abbrev pub PassesIt : Tree → Type 0
  PassesIt x = q (text_of x) (symbol_of (label_of x)) ≡ true

  pub passes-handed : HandedOn PassesIt (Passes q) (PassesBy q) (PassesAll q) (PassesIn q)
  passes-handed = record {
    names = λ l fs h. h.0;
    objects = λ l f fs h. h.1.0;
    properties = λ l f g fs h. h.1.1.0;
    defaults = λ l f fs h. h.1.0;
    rests = λ l f fs h. h.1.0;
    arrays = λ l fs h. h.1;
    elements = λ f fs h. h;
    child = λ t h. h;
    children = λ ts h. h;
    list = λ ts h. h;
    more = λ t ts h. h;
  }

  names-pass : (k : Label) (ds : Trees) (fs : Fields) → Passes q (node VariableDeclaration k (many ds then fs)) → EachTree PassesIt (names_of_declaration (node VariableDeclaration k (many ds then fs)))
  names-pass k ds fs h = declaration-names passes-handed {D = Passes q} {Ds = PassesAll q} (λ l p gs d. d.1.0) (λ t ts d. d) k ds fs h.1.0

  module _ (words : (x : Text) → q x None ≡ true) where
    specifiers-pass : (xs : List Tree) → EachTree PassesIt xs → PassesAll q (specifiers with_symbols xs)
    specifiers-pass [] h = tt
    specifiers-pass (x ∷ xs) h = ((tt, ((h.0, tt), ((words (text_of x), tt), tt))), specifiers-pass xs h.1)

    split-passes : (before_it after_it : Trees) (t : Tree) → IsExport t → PassesAll q (joined_trees before_it (t before after_it)) → PassesAll q (joined_trees before_it (split_before with_symbols t after_it))
    split-passes empty after_it t (is_export l k ds fs) h = (h.0.1.0, ((tt, (tt, (specifiers-pass (names_of_declaration (node VariableDeclaration k (many ds then fs))) (names-pass k ds fs h.0.1.0), (tt, (tt, tt))))), h.1))
    split-passes (b before before_it) after_it t e h = (h.0, split-passes before_it after_it t e h.1)

-- THE RULE

pub export-lawful : Lawful ExportRule
export-lawful = record {
  at_nodes = λ n s s' t u h used called. absurd (lists-alone h);
  flanking = λ n s s' t u bs cs h used. absurd (lists-alone h);
  at_lists = lists;
  at_bodies = λ n s s' p t u h. absurd (lists-alone h);
  unflanking = λ n s s' t bs cs us h. absurd (lists-alone h);
}
  where
    lists : (n : Site) (s s' : Ledger) (p q : Pending) (x y : Option Bound) (a b : Additions) (ts us : Trees) → ExportRule n s (at_list p x a ts) s' (at_list q y b us) → NamedAll (whole_in s).in_use (whole_in s).free_symbol n.role (whole_list p x a ts) → Outcome (TreesKept n (whole_list p x a ts) (whole_list q y b us)) s s'
    lists n s s' p q x y a b ts us (splits {w = w} {p = o} {y = z} {a = c} before_it after_it t top e found) used =
        let old = joined_trees before_it (t before after_it) in
        let new = joined_trees before_it (split_before with_symbols t after_it) in
        let plain = subst (λ (z : Trees). NamedAll w.in_use w.free_symbol n.role z) (written-none old) used in
        let kept = split-kept n w t (export-is t e) before_it after_it plain found in
        nothing-taken (ledger w o z c) {K = TreesKept n (whole_list p x a old) (whole_list q y b new)}
        (subst (λ (t : Trees). KeptAll (nothing_new w) n.names sealed n.role t (whole_list q y b new)) (sym (written-none old))
        (subst (λ (t : Trees). KeptAll (nothing_new w) n.names sealed n.role old t) (sym (written-none new)) kept))

pub export-writes : Writes ExportRule
export-writes = record {
  imports = λ n s s' t u h. absurd (lists-alone h);
  flanks_none = λ n s s' t u bs cs h. absurd (lists-alone h);
  no_names = λ n s s' l fs y e h. absurd (lists-alone h);
  freer = grows;
  same_called = called;
  names = λ q n s s' t u a b h k. absurd (lists-alone h);
  names_beside = λ q n s s' t u bs cs a b h k. absurd (lists-alone h);
  names_in_lists = lists;
}
  where
    grows : (n : Site) (s s' : Ledger) (x y : Spot) → ExportRule n s x s' y → (whole_in s).free_symbol ≤ (whole_in s').free_symbol
    grows n s s' x y (splits {w = w} before_it after_it t top e found) = at-least w.free_symbol

    called : (n : Site) (s s' : Ledger) (x y : Spot) → ExportRule n s x s' y → (m : ℕ) → m < (whole_in s).free_symbol → (whole_in s').called m ≡ (whole_in s).called m
    called n s s' x y (splits {w = w} before_it after_it t top e found) m below = refl

    lists : (q : Text → Option ℕ → Bool) (n : Site) (s s' : Ledger) (p p' : Pending) (x y : Option Bound) (a b : Additions) (ts us : Trees) → Allows q (whole_in s) (whole_in s') → LedgerPasses q s → ExportRule n s (at_list p x a ts) s' (at_list p' y b us) → PassesAll q (whole_list p x a ts) → PassesAll q (whole_list p' y b us) × LedgerPasses q s'
    lists q n s s' p p' x y a b ts us c d (splits {w = w} before_it after_it t top e found) k =
        let old = joined_trees before_it (t before after_it) in
        let new = joined_trees before_it (split_before with_symbols t after_it) in
        let plain = subst (λ (z : Trees). PassesAll q z) (written-none old) k in
        (subst (λ (z : Trees). PassesAll q z) (sym (written-none new)) (split-passes q c.words before_it after_it t (export-is t e) plain), record { pending = d.pending; this = d.this; top = d.top })
