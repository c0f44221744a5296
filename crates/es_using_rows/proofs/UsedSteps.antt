-- Rows of a walk lead from a tree that has form, at its place, to what it becomes where `using` is lowered, with one fresh name after the other.
use Rattle.std.proofs.Common.{◌≡◌, ◌∙◌, ◌≤◌, ◌<◌, ◌==◌, ℕ, zero, suc, refl, sym, arith, subst, length, List}
use Rattle.std.specs.Prelude.{Bool, true, false, ◌&&◌, ◌||◌, not, if◌then◌else◌}
use Rattle.std.proofs.lemmas.Bool.{ne_eqb}
use Rattle.es_tree.specs.HasForm.{has_form, same_type}
use Rattle.es_tree.specs.Tree.{Tree, node, Label, Fields, done, ◌then◌, Field, missing, one, many, statements, Trees, empty, ◌before◌}
use Rattle.es_tree.specs.Words.{Text}
use Rattle.es_tree.specs.declared.ast_type.AstType.{AstType}
use Rattle.es_tree.specs.declared.ast_type.AstType.TheVariants.{ArrowFunctionExpression, BlockStatement, CatchClause, FunctionBody, FunctionDeclaration, FunctionExpression, LabeledStatement, StaticBlock, SwitchStatement, TryStatement}
use Rattle.es_tree.specs.declared.table.Sort.{Sort}
use Rattle.es_changes.specs.Changes.{AsBody, Each, EachBy, EachIn}
use Rattle.es_changes.proofs.StepRows.{steps-trans}
use Rattle.es_steps.specs.Open.{is_body, is_statement_body, nothing_pending, opened}
use Rattle.es_steps.specs.Steps.{Site, Step, Steps, Whole, ledger, site_in_body}
use Rattle.es_steps.specs.Steps.Step.{acts}
use Rattle.es_steps.specs.Steps.Steps.{goes, stays}
use Rattle.es_pattern_moves.specs.Moved.{name_of}
use Rattle.es_pattern_moves.proofs.MovedInward.{FitsAt, IsField, are-fields, each-in, each-of, inward, sites}
use Rattle.es_pattern_moves.proofs.MovedRows.{same-body}
use Rattle.es_rest_steps.proofs.RowsInside.{row-inside}
use Rattle.es_pattern_moves.proofs.RowsLead.{LeadAmong, LeadBy, LeadIn, LeadTo, body-by as value-body-by, child-by, many-by, more-among, more-in, none-among, none-by, none-in, statement-body-by, statements-by}
use Rattle.es_using_rows.specs.Used.{Makes, constants, context_bound, error_bound, tried, used, used_among, used_block, used_by, used_here, used_in, used_node, used_static_block, used_switch, with_symbols}
use Rattle.es_using_rows.specs.UsingPlaces.{is_labelled, is_part, standing_in, uses_here}
use Rattle.es_using_rows.specs.UsingRows.{StandsSo, UsingWalkRow, making}
use Rattle.es_using_rows.specs.UsingRows.UsingWalkRow.{uses}
use Rattle.es_using_rows.specs.declared.standing.Standing.{Standing}
use Rattle.es_using_rows.proofs.UsedBounds.{same-node}
use Rattle.es_using_rows.proofs.UsedCounts.{fields-more, here-more, trees-more}
use Rattle.es_using_rows.proofs.UsedRows.{body-row, walk-kept, walk-local, walk-only, walk-same}
use Rattle.es_using_rows.proofs.UsedSupply.{At, at-next, is-context, is-error, is-fresh, taking}

-- WHERE A NODE STANDS, its ancestors say

later : (i : ℕ) → (suc (suc i) == 1) ≡ false
later i = ne_eqb (suc (suc i)) 1 (λ d. omega (arith, d))

not-first : (i : ℕ) → (suc (suc (suc i)) == 0) ≡ false
not-first i = ne_eqb (suc (suc (suc i))) 0 (λ d. omega (arith, d))

not-third : (i : ℕ) → (suc (suc (suc i)) == 2) ≡ false
not-third i = ne_eqb (suc (suc (suc i))) 2 (λ d. omega (arith, d))

part-in : (k : AstType) (i : ℕ) → is_part (standing_in k i) ≡ not (not ((same_type k TryStatement && i == 0) || (same_type k TryStatement && i == 2) || (same_type k CatchClause && i == 1)))
part-in TryStatement zero = refl
part-in TryStatement (suc zero) = refl
part-in TryStatement (suc (suc zero)) = refl
part-in TryStatement (suc (suc (suc i))) = λ j. not (not (sym (not-first i) j || sym (not-third i) j || false))
part-in CatchClause zero = refl
part-in CatchClause (suc zero) = refl
part-in CatchClause (suc (suc i)) = λ j. not (not (sym (later i) j))
part-in LabeledStatement zero = refl
part-in LabeledStatement (suc zero) = refl
part-in LabeledStatement (suc (suc i)) = refl
part-in k i = refl

labelled-in : (k : AstType) (i : ℕ) → is_labelled (standing_in k i) ≡ (same_type k LabeledStatement && i == 1)
labelled-in TryStatement zero = refl
labelled-in TryStatement (suc zero) = refl
labelled-in TryStatement (suc (suc zero)) = refl
labelled-in TryStatement (suc (suc (suc i))) = refl
labelled-in CatchClause zero = refl
labelled-in CatchClause (suc zero) = refl
labelled-in CatchClause (suc (suc i)) = refl
labelled-in LabeledStatement zero = refl
labelled-in LabeledStatement (suc zero) = refl
labelled-in LabeledStatement (suc (suc i)) = sym (later i)
labelled-in k i = refl

stand : (n : Site) (k : AstType) (l : Label) (fs : Fields) (i : ℕ) → StandsSo (standing_in k i) (sites n k l fs i)
stand n k l fs i = record { part = part-in k i; labelled = labelled-in k i }

-- A NODE at which `using` is lowered is no body of a function, nor what it becomes

pub uses-no-body : (s : Standing) (k : AstType) (l : Label) (fs gs : Fields) → uses_here s k l gs ≡ true → is_statement_body (node k l fs) ≡ false
uses-no-body s FunctionBody l fs gs e = absurd (cc e)
uses-no-body s k l fs gs e = refl

module _ (m : Makes) where
  block-no-body : (s : Standing) (n : ℕ) (l : Label) (fs : Fields) → is_statement_body (used_block m s n l fs) ≡ false
  block-no-body s n l (statements ts then done) = at (is_part s)
    where
      inner : Tree
      inner = tried m n (node BlockStatement l (statements ts then done)) (constants m n ts)

      at : (b : Bool) → is_statement_body (if b then node BlockStatement l (statements (inner before empty) then done) else inner) ≡ false
      at true = refl
      at false = refl
  block-no-body s n l _ = refl

  switch-no-body : (n : ℕ) (l : Label) (fs : Fields) → is_statement_body (used_switch m n l fs) ≡ false
  switch-no-body n l (d then many cs then done) = refl
  switch-no-body n l _ = refl

  static-no-body : (n : ℕ) (l : Label) (fs : Fields) → is_statement_body (used_static_block m n l fs) ≡ false
  static-no-body n l (statements ts then done) = refl
  static-no-body n l _ = refl

  pub used-no-body : (s : Standing) (n : ℕ) (k : AstType) (l : Label) (fs : Fields) → is_statement_body (used_node m s n k l fs) ≡ false
  used-no-body s n BlockStatement l fs = block-no-body s n l fs
  used-no-body s n SwitchStatement l fs = switch-no-body n l fs
  used-no-body s n FunctionDeclaration l fs = refl
  used-no-body s n FunctionExpression l fs = refl
  used-no-body s n ArrowFunctionExpression l fs = refl
  used-no-body s n StaticBlock l fs = static-no-body n l fs
  used-no-body s n k l fs = refl

  abbrev SameBody : Tree → ℕ × Tree → Type 0
  SameBody t r = is_statement_body r.1 ≡ is_statement_body t

  body-kept : (s : Standing) (i : ℕ) (t : Tree) → is_statement_body (used m s i t).1 ≡ is_statement_body t
  body-kept s i (node k l fs) =
      let gs : Fields = (used_in m (standing_in k) i fs).1 in
      at gs (used_in m (standing_in k) i fs).0 (uses_here s k l gs) refl
    where
      at : (gs : Fields) (j : ℕ) (b : Bool) → uses_here s k l gs ≡ b → SameBody (node k l fs) (if b then (suc j, used_node m s j k l gs) else (j, node k l gs))
      at gs j true e = used-no-body s j k l gs ∙ sym (uses-no-body s k l fs gs e)
      at gs j false e = same-body k l l fs gs

module _ (names : List Text) (first : ℕ) where
  abbrev m : Makes
  m = with_symbols names first

  -- WHAT IS LEFT

  -- these names are had there
  abbrev pub There : Whole → ℕ → Type 0
  There w i = At names first w i

  abbrev pub LeftTo : Site → Whole → Tree → ℕ × Tree → Type 0
  LeftTo n w t r = LeadTo UsingWalkRow There n w t r

  -- A NODE

  abbrev InSupply : ℕ × Tree → Type 0
  InSupply r = r.0 ≤ length names

  module _ (n : Site) (s : Standing) (so : StandsSo s n) (i : ℕ) (w : Whole) (here : At names first w i) where
    -- by one row
    by-row : (k : AstType) (l : Label) (fs : Fields) → uses_here s k l fs ≡ true → i < length names → LeftTo n w (node k l fs) (suc i, used_node m s i k l fs)
    by-row k l fs e lt =
        let c : Text = name_of names i in
        let made : Tree = used_node (making w c) s i k l fs in
        let same : made ≡ used_node m s i k l fs = same-node (context_bound names first) (error_bound first) i w c (is-context names first w i here lt) (is-error names first w i here lt) s k l fs in
        record {
          after = taking names first w i;
          there = at-next names first w i here lt;
          steps = λ q x y.
              goes (acts (node k l fs) made (uses s i k l fs c so e (is-fresh names first w i here lt) here.helpers))
              (subst (λ (z : Tree). Steps (Step UsingWalkRow n) (ledger (taking names first w i) q x y) (opened made) (ledger (taking names first w i) q x y) (opened z)) same stays);
        }

    -- a node whose fields are done
    here-left : (k : AstType) (l : Label) (fs : Fields) → (used_here m s i k l fs).0 ≤ length names → LeftTo n w (node k l fs) (used_here m s i k l fs)
    here-left k l fs le = at (uses_here s k l fs) refl le
      where
        at : (b : Bool) → uses_here s k l fs ≡ b → InSupply (if b then (suc i, used_node m s i k l fs) else (i, node k l fs)) → LeftTo n w (node k l fs) (if b then (suc i, used_node m s i k l fs) else (i, node k l fs))
        at true e h = by-row k l fs e (omega (arith, h))
        at false e h = record { after = w; there = here; steps = λ q x y. stays }

  -- FIELDS

  -- in a field that may be the body of an arrow
  body-by : (n : Site) (s : Standing) (so : StandsSo s n) (i : ℕ) (w : Whole) (t : Tree) → IsField true n → (v : Bool) → is_statement_body t ≡ v → AsBody FitsAt n v t → ((c : Site) → StandsSo s c → FitsAt c t → LeftTo c w t (used m s i t)) → LeadBy UsingWalkRow There n true w (one t) ((used m s i t).0, one (used m s i t).1)
  body-by n s so i w t place true e fit walk = statement-body-by UsingWalkRow There n w t (used m s i t) (body-kept m s i t) e (walk n so fit)
  body-by n s so i w t place false e fit walk =
      let left = walk (site_in_body n nothing_pending t) (record { part = so.part; labelled = so.labelled }) fit in
      let sort = fit.arrow place.place in
      value-body-by UsingWalkRow There n w t (used m s i t) (body-kept m s i t) e left.after left.there
      (λ q x y. body-row UsingWalkRow walk-local walk-only walk-same walk-kept n (place.role refl) q nothing_pending t (used m s i t).1 (subst (λ (a : Sort). has_form a t ≡ true) sort fit.formed) e (left.steps nothing_pending x y))

  one-by : (n : Site) (v : Bool) (s : Standing) (so : StandsSo s n) (i : ℕ) (w : Whole) (t : Tree) → IsField v n → EachBy FitsAt n v (one t) → ((c : Site) → StandsSo s c → FitsAt c t → LeftTo c w t (used m s i t)) → LeadBy UsingWalkRow There n v w (one t) ((used m s i t).0, one (used m s i t).1)
  one-by n true s so i w t place fit walk = body-by n s so i w t place (is_statement_body t) refl fit walk
  one-by n false s so i w t place fit walk = child-by UsingWalkRow There n w t (used m s i t) (walk n so fit)

  -- A TREE
  mutual
    pub tree-left : (n : Site) (s : Standing) (t : Tree) (i : ℕ) (w : Whole) → StandsSo s n → FitsAt n t → At names first w i → (used m s i t).0 ≤ length names → LeftTo n w t (used m s i t)
    tree-left n s (node k l fs) i w so fit here le =
        let gs : Fields = (used_in m (standing_in k) i fs).1 in
        let j : ℕ = (used_in m (standing_in k) i fs).0 in
        let parts = fields-left (sites n k l fs) (is_body k) (standing_in k) fs i w (stand n k l fs) (are-fields n k l fs) (inward n k l fs fit.sort fit.formed) here (omega (arith, le, here-more m s j k l gs)) in
        let end = here-left n s so j parts.after parts.there k l gs le in
        record { after = end.after; there = end.there; steps = λ q x y. steps-trans (row-inside UsingWalkRow walk-local n k l (parts.steps q x y)) (end.steps q x y) }

    fields-left : (c : ℕ → Site) (bodies : ℕ → Bool) (a : ℕ → Standing) (fs : Fields) (i : ℕ) (w : Whole) → ((j : ℕ) → StandsSo (a j) (c j)) → ((j : ℕ) → IsField (bodies j) (c j)) → EachIn FitsAt c bodies fs → At names first w i → (used_in m a i fs).0 ≤ length names → LeadIn UsingWalkRow There c bodies w fs (used_in m a i fs)
    fields-left c bodies a done i w so places fit here le = none-in UsingWalkRow There c bodies i w here
    fields-left c bodies a (f then fs) i w so places fit here le =
        let j : ℕ = (used_by m (a zero) i f).0 in
        let head = field-left (c zero) (bodies zero) (a zero) f i w (so zero) (places zero) fit.0 here (omega (arith, le, fields-more m (λ b. a (suc b)) j fs)) in
        let tail = fields-left (λ b. c (suc b)) (λ b. bodies (suc b)) (λ b. a (suc b)) fs j head.after (λ b. so (suc b)) (λ b. places (suc b)) fit.1 head.there le in
        more-in UsingWalkRow There c bodies w f fs (used_by m (a zero) i f) (used_in m (λ b. a (suc b)) j fs) head tail

    field-left : (n : Site) (v : Bool) (s : Standing) (f : Field) (i : ℕ) (w : Whole) → StandsSo s n → IsField v n → EachBy FitsAt n v f → At names first w i → (used_by m s i f).0 ≤ length names → LeadBy UsingWalkRow There n v w f (used_by m s i f)
    field-left n v s missing i w so place fit here le = none-by UsingWalkRow There n v i w here
    field-left n v s (one t) i w so place fit here le = one-by n v s so i w t place fit (λ c d e. tree-left c s t i w d e here le)
    field-left n v s (many ts) i w so place fit here le = many-by UsingWalkRow There n v w ts (used_among m s i ts) (trees-left n s ts i w so (each-of n v ts fit) here le)
    field-left n v s (statements ts) i w so place fit here le = statements-by UsingWalkRow There n v w ts (used_among m s i ts) (trees-left n s ts i w so (each-in n v ts fit) here le)

    trees-left : (n : Site) (s : Standing) (ts : Trees) (i : ℕ) (w : Whole) → StandsSo s n → Each FitsAt n ts → At names first w i → (used_among m s i ts).0 ≤ length names → LeadAmong UsingWalkRow There n w ts (used_among m s i ts)
    trees-left n s empty i w so fit here le = none-among UsingWalkRow There n i w here
    trees-left n s (t before ts) i w so fit here le =
        let j : ℕ = (used m s i t).0 in
        let head = tree-left n s t i w so fit.0 here (omega (arith, le, trees-more m s j ts)) in
        let tail = trees-left n s ts j head.after so fit.1 head.there le in
        more-among UsingWalkRow There n w t ts (used m s i t) (used_among m s j ts) head tail
