-- A program with symbols reaches what it becomes by moving, with symbols: by steps of the rows, if steps of a walk are such; and but for ids and
-- marks that is what the program as it is read becomes, if the tests ask for neither.
use Rattle.std.proofs.Common.{◌≡◌, ◌∙◌, ℕ, refl, sym, ap, arith, length, List, []}
use Rattle.std.specs.Prelude.{Bool, true, None}
use Rattle.es_tree.specs.Bare.{bare, bare_fields, bare_label}
use Rattle.es_tree.specs.HasForm.{has_form}
use Rattle.es_tree.specs.StaticRules.{breaks}
use Rattle.es_tree.specs.Tree.{Tree, Label, Fields}
use Rattle.es_tree.specs.Words.{Text}
use Rattle.es_tree.specs.declared.ast_type.AstType.{AstType}
use Rattle.es_tree.specs.declared.table.Sort.TheVariants.{Program as s-Program}
use Rattle.es_resolution.specs.Laws.{source}
use Rattle.es_semantic.specs.RolesOf.{reads}
use Rattle.es_reached.proofs.Results.{rules-bare, source-form, source-well-bound}
use Rattle.es_reached.proofs.Sources.{law_bare_source_proof}
use Rattle.es_steps.specs.CoreBridge.{first_whole}
use Rattle.es_steps.specs.Open.{no_additions, nothing_pending}
use Rattle.es_steps.specs.Steps.{the_program}
use Rattle.es_pattern_moves.specs.Laws.{LawMoveWalks, LawMovedSteps}
use Rattle.es_pattern_moves.specs.Moved.{AreFresh, Makes, moved, plainly, with_symbols}
use Rattle.es_pattern_moves.specs.PatternMoves.{is_rest_parameter, moves_pattern, pattern_of}
use Rattle.es_pattern_moves.proofs.MovedAlike.{moved-alike, plainly-so, symbols-so}
use Rattle.es_pattern_moves.proofs.MovedInward.{FitsAt}
use Rattle.es_pattern_moves.proofs.MovedSteps.{LeftTo, tree-left}
use Rattle.es_pattern_moves.proofs.MovedSupply.{At, all-of}

module _ (p : Tree) (names : List Text) where
  abbrev first : ℕ
  first = (first_whole p).free_symbol

  abbrev base : Text → Bool
  base = (first_whole p).in_use

  abbrev m : Makes
  m = with_symbols names first

  begins : AreFresh base names → At names first base (first_whole p) 0
  begins fresh = record { fresh = fresh; symbol = omega arith; made = refl; used = λ x e. e }

  fits : has_form s-Program p ≡ true → FitsAt the_program (source p)
  fits form = record { sort = s-Program; formed = source-form p form; slot = λ e. absurd (cc e); arrow = λ e. absurd (cc e) }

  pub walked : has_form s-Program p ≡ true → breaks p ≡ [] → AreFresh base names → (moved m 0 (source p)).0 ≡ length names → LeftTo names first base first the_program (first_whole p) (source p) (moved m 0 (source p))
  walked form right fresh count = tree-left names first base first the_program reads (source p) 0 (first_whole p) (fits form) (source-well-bound p form right).named (begins fresh) (omega (arith, count))

module _ (walks : LawMoveWalks) (moves-same : (k : AstType) (l : Label) (fs : Fields) → moves_pattern k (bare_label l) (bare_fields fs) ≡ moves_pattern k l fs) (parameter-same : (t : Tree) → is_rest_parameter (bare t) ≡ is_rest_parameter t) (pattern-same : (t : Tree) → pattern_of (bare t) ≡ bare (pattern_of t)) where
  pub moved-steps : LawMovedSteps
  moved-steps p q names form right to =
      let start = first_whole p in
      let m : Makes = with_symbols names start.free_symbol in
      let alike = moved-alike moves-same parameter-same pattern-same names m (plainly names) (symbols-so names start.free_symbol) (plainly-so names) 0 (source p) p (law_bare_source_proof p) in
      let count : (moved m 0 (source p)).0 ≡ length names = alike.0 ∙ to.count in
      let left = walked p names form right to.fresh count in
      let r : Tree = (moved m 0 (source p)).1 in (
        r,
        left.after,
        walks (source p) r start left.after (source-form p form) (rules-bare p (source p) (sym (law_bare_source_proof p)) right) (source-well-bound p form right) (left.steps nothing_pending None no_additions),
        left.there.made ∙ all-of (moved m 0 (source p)).0 names count,
        alike.1 ∙ sym (ap bare to.tree),
      )
