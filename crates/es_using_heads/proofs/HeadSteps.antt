-- Rows of a walk lead from a tree that has form, at its place, to what it becomes, with one fresh name after the other.
use Rattle.std.proofs.Common.{◌≡◌, ◌∙◌, ◌≤◌, ◌<◌, ℕ, zero, suc, refl, sym, ap, arith, subst, length, List}
use Rattle.std.specs.Prelude.{Bool, true, false, if◌then◌else◌}
use Rattle.es_tree.specs.HasForm.{has_form}
use Rattle.es_tree.specs.Fresh.{IsFreshName}
use Rattle.es_tree.specs.Tree.{Tree, node, Label, Fields, done, ◌then◌, Field, missing, one, many, statements, Trees, empty, ◌before◌}
use Rattle.es_tree.specs.Words.{Text}
use Rattle.es_tree.specs.declared.ast_type.AstType.{AstType}
use Rattle.es_tree.specs.declared.ast_type.AstType.TheVariants.{ForOfStatement}
use Rattle.es_tree.specs.declared.table.Sort.{Sort}
use Rattle.es_resolution.specs.Declarations.{Bound}
use Rattle.es_changes.specs.Changes.{AsBody, Each, EachBy, EachIn}
use Rattle.es_changes.proofs.StepRows.{steps-trans}
use Rattle.es_steps.specs.LoopHeads.{head_fields}
use Rattle.es_steps.specs.Open.{is_body, is_statement_body, nothing_pending, opened}
use Rattle.es_steps.specs.Rules.{next_name}
use Rattle.es_steps.specs.Steps.{Site, Step, Steps, Whole, ledger, site_in_body}
use Rattle.es_steps.specs.Steps.Step.{acts}
use Rattle.es_steps.specs.Steps.Steps.{goes, stays}
use Rattle.es_steps.specs.UsingLoops.{block_head}
use Rattle.es_pattern_moves.specs.Moved.{Makes, name_of, with_symbols}
use Rattle.es_pattern_moves.proofs.MovedInward.{FitsAt, IsField, are-fields, each-in, each-of, inward, sites}
use Rattle.es_pattern_moves.proofs.MovedRows.{same-body}
use Rattle.es_pattern_moves.proofs.MovedSupply.{taking}
use Rattle.es_rest_steps.proofs.RowsInside.{row-inside}
use Rattle.es_pattern_moves.proofs.RowsLead.{LeadAmong, LeadBy, LeadIn, LeadTo, body-by as value-body-by, child-by, many-by, more-among, more-in, none-among, none-by, none-in, statement-body-by, statements-by}
use Rattle.es_using_heads.specs.HeadRows.{HeadWalkRow}
use Rattle.es_using_heads.specs.HeadRows.HeadWalkRow.{from_head}
use Rattle.es_using_heads.specs.Heads.{Fresh, FreshAmong, FreshBy, FreshHere, FreshIn, head_base, headed, headed_among, headed_by, headed_fields, headed_here, headed_in, moves_using, with_first}
use Rattle.es_using_heads.proofs.HeadCounts.{fields-more, here-more, trees-more}
use Rattle.es_using_heads.proofs.HeadForms.{body-row, walk-local}
use Rattle.es_using_heads.proofs.HeadShapes.{IsHead, head-shape}
use Rattle.es_using_heads.proofs.HeadShapes.IsHead.{a_head}
use Rattle.es_using_heads.proofs.HeadSupply.{At, at-next, is-bound, is-fresh}

module _ (names : List Text) (first : ℕ) (base : Text → Bool) where
  abbrev m : Makes
  m = with_symbols names first

  -- WHAT IS LEFT

  -- these names are had there
  abbrev pub There : Whole → ℕ → Type 0
  There w i = At names first base w i

  abbrev pub LeftTo : Site → Whole → Tree → ℕ × Tree → Type 0
  LeftTo n w t r = LeadTo HeadWalkRow There n w t r

  -- the names from this number on are fresh, each at its node
  abbrev pub AreFresh : ℕ → Tree → Type 0
  AreFresh = Fresh m base names

  abbrev AreFreshIn : ℕ → Fields → Type 0
  AreFreshIn = FreshIn m base names

  abbrev AreFreshBy : ℕ → Field → Type 0
  AreFreshBy = FreshBy m base names

  abbrev AreFreshAmong : ℕ → Trees → Type 0
  AreFreshAmong = FreshAmong m base names

  -- A NODE

  abbrev InSupply : ℕ × Tree → Type 0
  InSupply r = r.0 ≤ length names

  module _ (n : Site) (i : ℕ) (w : Whole) (here : At names first base w i) where
    abbrev c : Text
    c = name_of names i

    -- by one row
    by-row : (l : Label) {fs : Fields} → IsHead fs → IsFreshName (with_first names i base) (head_base fs) c → i < length names → LeftTo n w (node ForOfStatement l fs) (suc i, node ForOfStatement l (headed_fields m i fs))
    by-row l (a_head l' k x e b moves) fresh lt =
        let old : Tree = node ForOfStatement l (head_fields l' k x e b) in
        let now : Tree = node ForOfStatement l (block_head l' k (next_name w c) x e b) in
        let same : now ≡ node ForOfStatement l (headed_fields m i (head_fields l' k x e b)) = ap (λ (z : Bound). node ForOfStatement l (block_head l' k z x e b)) (is-bound names first base w i here) in
        record {
          after = taking names first base w i;
          there = at-next names first base w i here lt;
          steps = λ q s y.
              goes (acts old now (from_head l l' k x e b c moves (is-fresh names first base w i here (head_base (head_fields l' k x e b)) fresh)))
              (subst (λ (z : Tree). Steps (Step HeadWalkRow n) (ledger (taking names first base w i) q s y) (opened now) (ledger (taking names first base w i) q s y) (opened z)) same stays);
        }

    moving : (k : AstType) (l : Label) (fs : Fields) → moves_using k l fs ≡ true → IsFreshName (with_first names i base) (head_base fs) c → i < length names → LeftTo n w (node k l fs) (suc i, node k l (headed_fields m i fs))
    moving ForOfStatement l fs e fresh lt = by-row l (head-shape fs e) fresh lt
    moving k l fs e fresh lt = absurd (cc e)

    -- a node whose fields are done
    here-left : (k : AstType) (l : Label) (fs : Fields) → FreshHere m base names i k l fs → (headed_here m i k l fs).0 ≤ length names → LeftTo n w (node k l fs) (headed_here m i k l fs)
    here-left k l fs fresh le = at (moves_using k l fs) refl le
      where
        at : (b : Bool) → moves_using k l fs ≡ b → InSupply (if b then (suc i, node k l (headed_fields m i fs)) else (i, node k l fs)) → LeftTo n w (node k l fs) (if b then (suc i, node k l (headed_fields m i fs)) else (i, node k l fs))
        at true e h = moving k l fs e (fresh e) (omega (arith, h))
        at false e h = record { after = w; there = here; steps = λ q x y. stays }

  -- FIELDS

  -- a node is a body of statements where it was
  abbrev SameBody : Tree → ℕ × Tree → Type 0
  SameBody t r = is_statement_body r.1 ≡ is_statement_body t

  body-kept : (i : ℕ) (t : Tree) → is_statement_body (headed m i t).1 ≡ is_statement_body t
  body-kept i (node k l fs) = at (moves_using k l (headed_in m i fs).1)
    where
      at : (b : Bool) → SameBody (node k l fs) (if b then (suc (headed_in m i fs).0, node k l (headed_fields m (headed_in m i fs).0 (headed_in m i fs).1)) else ((headed_in m i fs).0, node k l (headed_in m i fs).1))
      at true = same-body k l l fs (headed_fields m (headed_in m i fs).0 (headed_in m i fs).1)
      at false = same-body k l l fs (headed_in m i fs).1

  -- in a field that may be the body of an arrow
  body-by : (n : Site) (i : ℕ) (w : Whole) (t : Tree) → IsField true n → (v : Bool) → is_statement_body t ≡ v → AsBody FitsAt n v t → ((c : Site) → FitsAt c t → LeftTo c w t (headed m i t)) → LeadBy HeadWalkRow There n true w (one t) ((headed m i t).0, one (headed m i t).1)
  body-by n i w t place true e fit walk = statement-body-by HeadWalkRow There n w t (headed m i t) (body-kept i t) e (walk n fit)
  body-by n i w t place false e fit walk =
      let left = walk (site_in_body n nothing_pending t) fit in
      let sort = fit.arrow place.place in
      value-body-by HeadWalkRow There n w t (headed m i t) (body-kept i t) e left.after left.there
      (λ q s y. body-row n (place.role refl) (λ d. sym sort ∙ fit.slot d) q nothing_pending t (headed m i t).1 (subst (λ (a : Sort). has_form a t ≡ true) sort fit.formed) e (left.steps nothing_pending s y))

  one-by : (n : Site) (v : Bool) (i : ℕ) (w : Whole) (t : Tree) → IsField v n → EachBy FitsAt n v (one t) → ((c : Site) → FitsAt c t → LeftTo c w t (headed m i t)) → LeadBy HeadWalkRow There n v w (one t) ((headed m i t).0, one (headed m i t).1)
  one-by n true i w t place fit walk = body-by n i w t place (is_statement_body t) refl fit walk
  one-by n false i w t place fit walk = child-by HeadWalkRow There n w t (headed m i t) (walk n fit)

  -- A TREE
  mutual
    pub tree-left : (n : Site) (t : Tree) (i : ℕ) (w : Whole) → FitsAt n t → AreFresh i t → At names first base w i → (headed m i t).0 ≤ length names → LeftTo n w t (headed m i t)
    tree-left n (node k l fs) i w fit fresh here le =
        let gs : Fields = (headed_in m i fs).1 in
        let j : ℕ = (headed_in m i fs).0 in
        let parts = fields-left (sites n k l fs) (is_body k) fs i w (are-fields n k l fs) (inward n k l fs fit.sort fit.formed) fresh.0 here (omega (arith, le, here-more m j k l gs)) in
        let end = here-left n j parts.after parts.there k l gs fresh.1 le in
        record { after = end.after; there = end.there; steps = λ q s y. steps-trans (row-inside HeadWalkRow walk-local n k l (parts.steps q s y)) (end.steps q s y) }

    fields-left : (c : ℕ → Site) (bodies : ℕ → Bool) (fs : Fields) (i : ℕ) (w : Whole) → ((j : ℕ) → IsField (bodies j) (c j)) → EachIn FitsAt c bodies fs → AreFreshIn i fs → At names first base w i → (headed_in m i fs).0 ≤ length names → LeadIn HeadWalkRow There c bodies w fs (headed_in m i fs)
    fields-left c bodies done i w places fit fresh here le = none-in HeadWalkRow There c bodies i w here
    fields-left c bodies (f then fs) i w places fit fresh here le =
        let j : ℕ = (headed_by m i f).0 in
        let head = field-left (c zero) (bodies zero) f i w (places zero) fit.0 fresh.0 here (omega (arith, le, fields-more m j fs)) in
        let tail = fields-left (λ a. c (suc a)) (λ a. bodies (suc a)) fs j head.after (λ a. places (suc a)) fit.1 fresh.1 head.there le in
        more-in HeadWalkRow There c bodies w f fs (headed_by m i f) (headed_in m j fs) head tail

    field-left : (n : Site) (v : Bool) (f : Field) (i : ℕ) (w : Whole) → IsField v n → EachBy FitsAt n v f → AreFreshBy i f → At names first base w i → (headed_by m i f).0 ≤ length names → LeadBy HeadWalkRow There n v w f (headed_by m i f)
    field-left n v missing i w place fit fresh here le = none-by HeadWalkRow There n v i w here
    field-left n v (one t) i w place fit fresh here le = one-by n v i w t place fit (λ c d. tree-left c t i w d fresh here le)
    field-left n v (many ts) i w place fit fresh here le = many-by HeadWalkRow There n v w ts (headed_among m i ts) (trees-left n ts i w (each-of n v ts fit) fresh here le)
    field-left n v (statements ts) i w place fit fresh here le = statements-by HeadWalkRow There n v w ts (headed_among m i ts) (trees-left n ts i w (each-in n v ts fit) fresh here le)

    trees-left : (n : Site) (ts : Trees) (i : ℕ) (w : Whole) → Each FitsAt n ts → AreFreshAmong i ts → At names first base w i → (headed_among m i ts).0 ≤ length names → LeadAmong HeadWalkRow There n w ts (headed_among m i ts)
    trees-left n empty i w fit fresh here le = none-among HeadWalkRow There n i w here
    trees-left n (t before ts) i w fit fresh here le =
        let j : ℕ = (headed m i t).0 in
        let head = tree-left n t i w fit.0 fresh.0 here (omega (arith, le, trees-more m j ts)) in
        let tail = trees-left n ts j head.after fit.1 fresh.1 head.there le in
        more-among HeadWalkRow There n w t ts (headed m i t) (headed_among m j ts) head tail
