-- A program with symbols reaches what it becomes where `using` is lowered, with symbols: by steps of the rules of `using`, if steps of a walk are
-- such where no `babelHelpers` is bound; and but for ids and marks that is what the program as it is read becomes.
use Rattle.std.proofs.Common.{◌≡◌, ◌∙◌, ℕ, refl, sym, ap, arith, length, List, []}
use Rattle.std.specs.Prelude.{true, false, None, codes}
use Rattle.std.proofs.lemmas.Bool.{or_right}
use Rattle.es_tree.specs.Bare.{bare}
use Rattle.es_tree.specs.Fresh.{is_among}
use Rattle.es_tree.specs.HasForm.{has_form}
use Rattle.es_tree.specs.Names.{names_of}
use Rattle.es_tree.specs.StaticRules.{breaks}
use Rattle.es_tree.specs.Tree.{Tree}
use Rattle.es_tree.specs.Walks.{any_node}
use Rattle.es_tree.specs.Words.{Text}
use Rattle.es_tree.specs.declared.table.Sort.TheVariants.{Program as s-Program}
use Rattle.es_semantic.specs.SymbolsOf.{symbols_of}
use Rattle.es_resolution.specs.Laws.{source}
use Rattle.es_reached.proofs.Results.{rules-bare, source-form, source-well-bound}
use Rattle.es_reached.proofs.Sources.{law_bare_source_proof}
use Rattle.es_rest_rows.specs.Laws.{is_bound_helper}
use Rattle.es_rest_shapes.specs.HelperNames.{binds_helpers}
use Rattle.es_steps.specs.AllRules.{UsingRule}
use Rattle.es_steps.specs.CoreBridge.{first_whole}
use Rattle.es_steps.specs.Laws.{IsWellBound, nothing_beside}
use Rattle.es_steps.specs.Open.{Open, no_additions, nothing_pending, opened}
use Rattle.es_steps.specs.Steps.{Step, Steps, Whole, the_program}
use Rattle.es_pattern_moves.proofs.MovedInward.{FitsAt}
use Rattle.es_pattern_moves.proofs.MovedSupply.{all-of}
use Rattle.es_using_rows.specs.Laws.{LawUsedSteps}
use Rattle.es_using_rows.specs.Used.{AreFresh, Makes, plainly, used, with_symbols}
use Rattle.es_using_rows.specs.UsingRows.{StandsSo, UsingWalkRow}
use Rattle.es_using_rows.specs.declared.standing.Standing.TheVariants.{Anywhere}
use Rattle.es_using_rows.proofs.UsedAlike.{plainly-so, symbols-so, used-alike}
use Rattle.es_using_rows.proofs.UsedSteps.{LeftTo, tree-left}
use Rattle.es_using_rows.proofs.UsedSupply.{At}

helpers-used : (p : Tree) → (first_whole p).in_use (codes "babelHelpers") ≡ true
helpers-used p = or_right (is_among (names_of p) (codes "babelHelpers")) true refl

module _ (p : Tree) (names : List Text) where
  abbrev first : ℕ
  first = (first_whole p).free_symbol

  abbrev m : Makes
  m = with_symbols names first

  begins : AreFresh (first_whole p).in_use names → At names first (first_whole p) 0
  begins fresh = record { fresh = fresh; symbol = omega arith; made = refl; helpers = helpers-used p }

  fits : has_form s-Program p ≡ true → FitsAt the_program (source p)
  fits form = record { sort = s-Program; formed = source-form p form; slot = λ e. absurd (cc e); arrow = λ e. absurd (cc e) }

  stands : StandsSo Anywhere the_program
  stands = record { part = refl; labelled = refl }

  -- by steps of a walk
  pub walked : has_form s-Program p ≡ true → AreFresh (first_whole p).in_use names → (used m Anywhere 0 (source p)).0 ≡ length names → LeftTo names first the_program (first_whole p) (source p) (used m Anywhere 0 (source p))
  walked form fresh count = tree-left names first the_program Anywhere (source p) 0 (first_whole p) stands (fits form) (begins fresh) (omega (arith, count))

module _
    (walks : (t : Tree) (w w' : Whole) (x : Open) → has_form s-Program t ≡ true → breaks t ≡ [] → IsWellBound w t → any_node is_bound_helper t ≡ false → w.in_use (codes "babelHelpers") ≡ true → Steps (Step UsingWalkRow the_program) (nothing_beside w) (opened t) (nothing_beside w') x → Steps (Step UsingRule the_program) (nothing_beside w) (opened t) (nothing_beside w') x)
    (source-unbound : (p : Tree) → has_form s-Program p ≡ true → breaks p ≡ [] → binds_helpers (symbols_of p) ≡ false → any_node is_bound_helper (source p) ≡ false) where
  pub used-steps : LawUsedSteps
  used-steps p q names form right unbound to =
      let start = first_whole p in
      let m : Makes = with_symbols names start.free_symbol in
      let alike = used-alike names m (plainly names) (symbols-so names start.free_symbol) (plainly-so names) Anywhere 0 (source p) p (law_bare_source_proof p) in
      let count : (used m Anywhere 0 (source p)).0 ≡ length names = alike.0 ∙ to.count in
      let left = walked p names form to.fresh count in
      let r : Tree = (used m Anywhere 0 (source p)).1 in (
        r,
        left.after,
        walks (source p) start left.after (opened r) (source-form p form) (rules-bare p (source p) (sym (law_bare_source_proof p)) right) (source-well-bound p form right) (source-unbound p form right unbound) (helpers-used p) (left.steps nothing_pending None no_additions),
        left.there.made ∙ all-of (used m Anywhere 0 (source p)).0 names count,
        alike.1 ∙ sym (ap bare to.tree),
      )
