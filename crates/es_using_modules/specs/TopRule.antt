-- As a rule: the list of a module that declares by `using` (Explicit Resource Management, 14.3.1), from whose place `babelHelpers` finds nothing.
use Rattle.std.specs.Prelude.{◌≡◌, [], ◌∷◌, None, Option, codes, false, true}
use Rattle.es_tree.specs.Fresh.{IsFreshName, text_base}
use Rattle.es_tree.specs.Tree.{Tree, Trees}
use Rattle.es_tree.specs.Words.{Text}
use Rattle.es_resolution.specs.Declarations.{Bound}
use Rattle.es_steps.specs.Open.{Additions, Pending, no_additions, nothing_pending}
use Rattle.es_steps.specs.Rules.{next_name, with_made}
use Rattle.es_steps.specs.Steps.{Ledger, Site, Spot, Whole, at_list, is_program_list, ledger}
use Rattle.es_steps.specs.UsingBlocks.{error_of, with_context}
use Rattle.es_using_rows.specs.UsingPlaces.{uses_in_list}
use Rattle.es_using_modules.specs.ModuleTops.{by_bounds, some_default, topped_list}

-- what is asked of the place and of the context's name
pub record Takes (n : Site) (w : Whole) (c : Text) : Type 0 where
  pub top : is_program_list n.above ≡ true
  pub fresh : IsFreshName w.in_use (text_base (codes "usingCtx")) c
  pub helpers : n.names.scope (codes "babelHelpers") ≡ None
  pub helpers_used : w.in_use (codes "babelHelpers") ≡ true

abbrev pub with_default : Text → Whole → Whole
with_default x w = with_made (next_name w x ∷ []) w

pub data TopRule : Site → Ledger → Spot → Ledger → Spot → Type 0 where
  without_default : {n : Site} {w : Whole} {p : Pending} {y : Option Bound} {a : Additions} (h : Tree) (ts : Trees) (c : Text) → uses_in_list ts ≡ true → some_default ts ≡ false → Takes n w c →
      TopRule n (ledger w p y a) (at_list nothing_pending None no_additions ts) (ledger (with_context c w) p y a) (at_list nothing_pending None no_additions (topped_list (by_bounds (next_name w c) (next_name w c) (error_of w)) h ts))
  by_default : {n : Site} {w : Whole} {p : Pending} {y : Option Bound} {a : Additions} (h : Tree) (ts : Trees) (x c : Text) → uses_in_list ts ≡ true → some_default ts ≡ true → IsFreshName w.in_use (text_base (codes "default")) x → Takes n (with_default x w) c →
      TopRule n (ledger w p y a) (at_list nothing_pending None no_additions ts) (ledger (with_context c (with_default x w)) p y a)
      (at_list nothing_pending None no_additions (topped_list (by_bounds (next_name w x) (next_name (with_default x w) c) (error_of (with_default x w))) h ts))
