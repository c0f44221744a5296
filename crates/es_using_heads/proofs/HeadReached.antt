-- A program with symbols reaches what it becomes, with symbols, by steps of the rules of `using`; and but for ids and marks that is what the program as it
-- is read becomes.
use Rattle.std.proofs.Common.{◌≡◌, ◌∙◌, ℕ, refl, sym, ap, arith, length, List}
use Rattle.std.specs.Prelude.{Bool, true, None}
use Rattle.es_tree.specs.Bare.{bare}
use Rattle.es_tree.specs.HasForm.{has_form}
use Rattle.es_tree.specs.Tree.{Tree}
use Rattle.es_tree.specs.Words.{Text}
use Rattle.es_tree.specs.declared.table.Sort.TheVariants.{Program as s-Program}
use Rattle.es_resolution.specs.Laws.{source}
use Rattle.es_reached.proofs.Results.{rules-bare, source-form, source-well-bound}
use Rattle.es_reached.proofs.Sources.{law_bare_source_proof}
use Rattle.es_steps.specs.CoreBridge.{first_whole}
use Rattle.es_steps.specs.Open.{no_additions, nothing_pending}
use Rattle.es_steps.specs.Steps.{the_program}
use Rattle.es_pattern_moves.specs.Moved.{Makes, plainly, with_symbols}
use Rattle.es_pattern_moves.proofs.MovedAlike.{plainly-so, symbols-so}
use Rattle.es_pattern_moves.proofs.MovedInward.{FitsAt}
use Rattle.es_pattern_moves.proofs.MovedSupply.{all-of}
use Rattle.es_using_heads.specs.Heads.{headed}
use Rattle.es_using_heads.specs.Laws.{LawHeadedSteps}
use Rattle.es_using_heads.proofs.HeadAlike.{fresh-alike, headed-alike}
use Rattle.es_using_heads.proofs.HeadSteps.{AreFresh, LeftTo, tree-left}
use Rattle.es_using_heads.proofs.HeadSupply.{At}
use Rattle.es_using_heads.proofs.HeadWalks.{walks}

module _ (p : Tree) (names : List Text) where
  abbrev first : ℕ
  first = (first_whole p).free_symbol

  abbrev base : Text → Bool
  base = (first_whole p).in_use

  abbrev m : Makes
  m = with_symbols names first

  begins : At names first base (first_whole p) 0
  begins = record { in_use = refl; symbol = omega arith; made = refl }

  fits : has_form s-Program p ≡ true → FitsAt the_program (source p)
  fits form = record { sort = s-Program; formed = source-form p form; slot = λ e. absurd (cc e); arrow = λ e. absurd (cc e) }

  -- by steps of a walk
  walked : has_form s-Program p ≡ true → AreFresh names first base 0 (source p) → (headed m 0 (source p)).0 ≡ length names → LeftTo names first base the_program (first_whole p) (source p) (headed m 0 (source p))
  walked form fresh count = tree-left names first base the_program (source p) 0 (first_whole p) (fits form) fresh begins (omega (arith, count))

pub law_headed_steps_proof : LawHeadedSteps
law_headed_steps_proof p q names form right to =
    let start = first_whole p in
    let m : Makes = with_symbols names start.free_symbol in
    let symbols = symbols-so names start.free_symbol in
    let same : bare (source p) ≡ bare p = law_bare_source_proof p in
    let alike = headed-alike names m (plainly names) symbols (plainly-so names) 0 (source p) p same in
    let count : (headed m 0 (source p)).0 ≡ length names = alike.0 ∙ to.count in
    let fresh = fresh-alike names (plainly names) m (plainly-so names) symbols start.in_use 0 p (source p) (sym same) to.fresh in
    let left = walked p names form fresh count in
    let r : Tree = (headed m 0 (source p)).1 in (
      r,
      left.after,
      walks (source p) r start left.after (source-form p form) (rules-bare p (source p) (sym same) right) (source-well-bound p form right) (left.steps nothing_pending None no_additions),
      left.there.made ∙ all-of (headed m 0 (source p)).0 names count,
      alike.1 ∙ sym (ap bare to.tree),
    )
