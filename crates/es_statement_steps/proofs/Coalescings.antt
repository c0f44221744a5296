-- The rows of nullish coalescing keep the runs of statements, whatever the operands are.
use Rattle.std.proofs.Common.{◌≡◌, refl, sym, subst, ap, ◌∙◌, ℕ, List, [], ◌∷◌}
use Rattle.std.specs.Prelude.{Bool, true, false, ◌&&◌, ◌||◌, not, Option, Some, None, is_some, codes}
use Rattle.es_tree.specs.Fresh.{node_base}
use Rattle.es_tree.specs.Names.{first_text}
use Rattle.es_tree.specs.Scopes.{Declared}
use Rattle.es_tree.specs.Tree.{Tree, node, Label, done, ◌then◌, one, kind_of}
use Rattle.es_tree.specs.Words.{Text}
use Rattle.es_tree.specs.declared.ast_type.AstType.TheVariants.{Identifier, LogicalExpression, ThisExpression}
use Rattle.es_runs.specs.Alike.{Like, SameWorld, set_cells}
use Rattle.es_runs.specs.Machine.{Value}
use Rattle.es_runs.specs.Core.{World, assignment, is_free, literal, logical, name, parenthesized}
use Rattle.es_runs.specs.Core.Binding.{changeable}
use Rattle.es_runs.specs.Core.Form.{other}
use Rattle.es_runs.proofs.NullishCoalescingValues.{like_by_value, literal_steady, name_steady, nullish_alike, tested_meaning}
use Rattle.es_resolution.specs.Declarations.{Bound, symbol_of}
use Rattle.es_resolution.specs.Resolved.{Resolved}
use Rattle.es_steps.specs.CoreBridge.{names_among}
use Rattle.es_steps.specs.NullishCoalescing.{NullishCoalescingRule, tested_by}
use Rattle.es_steps.specs.NullishCoalescing.NullishCoalescingRule.{reading_again, with_temporary}
use Rattle.es_steps.specs.Steps.{Site, Whole}
use Rattle.es_steps.specs.WrapRule.{OutsideSlots}
use Rattle.es_statement_runs.specs.Alike.{Quiet, SenseLike, StackSeen}
use Rattle.es_statement_runs.specs.Alike.MoreLike.{same_nothing}
use Rattle.es_statement_runs.specs.Helpers.{Supply}
use Rattle.es_statement_runs.specs.Helpers.Supply.{no_helpers, by_global, by_import, by_require, spread_by_global}
use Rattle.es_statement_runs.specs.Kinds.{sense}
use Rattle.es_statement_runs.specs.Laws.{among_names}
use Rattle.es_statement_runs.specs.Places.{SupplySeen, Take, avoids, placed_at, value_taken}
use Rattle.es_statement_runs.proofs.Everywhere.{both_left, both_right}
use Rattle.es_runs.specs.Duplication.{has_no_fields}
use Rattle.es_runs.proofs.Temporary.{bytes_eq-self}
use Rattle.es_steps.specs.Duplication.{is_among_symbols}
use Rattle.es_statement_runs.proofs.Moved.{is_mute}
use Rattle.es_statement_steps.proofs.FoundNames.{Finds}
use Rattle.es_statement_steps.proofs.NewNames.{new-one, no-new}
use Rattle.es_statement_steps.proofs.Rooms.{stays_put}
use Rattle.es_statement_steps.proofs.Stands.{is_inner}
use Rattle.es_statement_steps.proofs.Replacings.{RowShape, Row}
use Rattle.es_statement_steps.proofs.RowRuns.{KeepsRuns, WorldsKnown, bad_temporaries, part-like, temporaries_frame}
use Rattle.es_statement_steps.proofs.StepMoves.{AreNew, Fine, taken_at}

-- ITS SHAPE

abbrev pub CoalescingRow : Site → Whole → List Bound → Tree → Tree → Type 0
CoalescingRow = OutsideSlots NullishCoalescingRule

new-names : (n : Site) (w : Whole) (bs : List Bound) (t u : Tree) → NullishCoalescingRule n w bs t u → AreNew w bs
new-names n w bs t u (with_temporary {l = l} {x = x} texts again next) = new-one w (node_base l) x next
new-names n w bs t u (reading_again texts again) = no-new w

pub coalescing-shape : RowShape CoalescingRow
coalescing-shape = record {
  acts_on = λ n w bs t u h. acts n w bs t u h.rule;
  new_names = λ n w bs t u h. new-names n w bs t u h.rule;
  first = λ n w bs t u h. first n w bs t u h.rule;
  second = λ n w bs t u h. second n w bs t u h.rule;
}
  where
    acts : (n : Site) (w : Whole) (bs : List Bound) (t u : Tree) → NullishCoalescingRule n w bs t u → stays_put (kind_of t) ≡ false
    acts n w bs t u (with_temporary texts again next) = refl
    acts n w bs t u (reading_again texts again) = refl

    first : (n : Site) (w : Whole) (bs : List Bound) (t u : Tree) → NullishCoalescingRule n w bs t u → (is_mute (kind_of t) ≡ true) × (is_inner (kind_of t) ≡ true)
    first n w bs t u (with_temporary texts again next) = (refl, refl)
    first n w bs t u (reading_again texts again) = (refl, refl)

    second : (n : Site) (w : Whole) (bs : List Bound) (t u : Tree) → NullishCoalescingRule n w bs t u → (is_mute (kind_of u) ≡ true) × (is_inner (kind_of u) ≡ true)
    second n w bs t u (with_temporary texts again next) = (refl, refl)
    second n w bs t u (reading_again texts again) = (refl, refl)

-- ITS SIDES ARE ALIKE

-- what the row makes means what the lemma of the core says
made-as : (u : Supply) (v : World) (ls : List Text) (y : Text) (m : Label) (x : Bound) (l r : Tree) → v.scope x.name ≡ changeable →
    (sense (placed_at u v ls y) (tested_by m x l r)).core ≡ tested_meaning v (parenthesized (assignment v (codes "=") (name x.name) (sense (placed_at u v [] []) l).core)) (name x.name) (sense (placed_at u v [] []) r).core
made-as no_helpers v ls y m x l r e = refl
made-as spread_by_global v ls y m x l r e = refl
made-as by_global v ls y m x l r e = rw e refl
made-as (by_import z) v ls y m x l r e = rw e refl
made-as (by_require z) v ls y m x l r e = rw e refl

module _ (no_all : Bool) (u : Supply) where
  -- the operands stay
  operand-left : (xs : List Text) (m : Label) (l r : Tree) (t : Take) → avoids (bad_temporaries xs) t (node LogicalExpression m (one l then one r then done)) ≡ true → avoids (bad_temporaries xs) value_taken l ≡ true
  operand-left xs m l r t h = both_left (avoids (bad_temporaries xs) value_taken l) (avoids (bad_temporaries xs) value_taken r && true) h

  operand-right : (xs : List Text) (m : Label) (l r : Tree) (t : Take) → avoids (bad_temporaries xs) t (node LogicalExpression m (one l then one r then done)) ≡ true → avoids (bad_temporaries xs) value_taken r ≡ true
  operand-right xs m l r t h = both_left (avoids (bad_temporaries xs) value_taken r) true (both_right (avoids (bad_temporaries xs) value_taken l) (avoids (bad_temporaries xs) value_taken r && true) h)

  alike : (new : List Bound) (n : Site) (whole : Whole) (a b : Tree) → NullishCoalescingRule n whole new a b → (t : Take) → t ≡ taken_at n.above → (ds : List Declared) → Resolved n.role n.names a → Finds ds n.names → Fine a → avoids (bad_temporaries (names_among new)) t a ≡ true →
      Quiet (temporaries_frame true (names_among new)) → StackSeen (temporaries_frame true (names_among new)) → SupplySeen (temporaries_frame true (names_among new)) u →
      (w v : World) → SameWorld (among_names (names_among new)) w v → WorldsKnown no_all true (names_among new) ds w v → (ls : List Text) (y : Text) →
      SenseLike (temporaries_frame true (names_among new)) w v t (sense (placed_at u w ls y) a) (sense (placed_at u v ls y) b)
  alike new n whole a b (with_temporary {m = m} {l = l} {r = r} {x = x} texts again next) t taken ds resolved found fine away quiet stack seen w v same known ls y =
      let hidden = among_names (x.name ∷ []) in
      let here : among_names (x.name ∷ []) x.name ≡ true = ap (λ b. b || false) (bytes_eq-self x.name) in
      let var = known.temporaries refl x.name here in
      let left = part-like no_all u true (x.name ∷ []) quiet stack seen w v same ds known value_taken l (operand-left (x.name ∷ []) m l r t away) [] [] in
      let right = part-like no_all u true (x.name ∷ []) quiet stack seen w v same ds known value_taken r (operand-right (x.name ∷ []) m l r t away) [] [] in
      rw (ap first_text texts, made-as u v ls y m x l r var) (record {
        core = like_by_value hidden w v same t.need _ _
            (nullish_alike hidden w v same x.name here var (sense (placed_at u w [] []) r).core (sense (placed_at u v [] []) r).core right.core.evaluation (sense (placed_at u w [] []) l).core (sense (placed_at u v [] []) l).core left.core.evaluation);
        more = λ _. same_nothing;
      })
  alike new n whole a b (reading_again {m = m} {l = node ThisExpression o fs} {r = r} texts again) t taken ds resolved found fine away quiet stack seen w v same known ls y =
      let right = part-like no_all u true [] quiet stack seen w v same ds known value_taken r (operand-right [] m (node ThisExpression o fs) r t away) [] [] in
      let here = λ (z : Value). tested_meaning v (literal z other) (literal z other) (sense (placed_at u v [] []) r).core in
      rw (ap first_text texts) (record {
        core = subst (λ (z : Value). Like (set_cells (among_names [])) w v t.need (logical w (codes "??") (literal w.this other) (sense (placed_at u w [] []) r).core) (here z)) (sym same.this)
            (like_by_value (among_names []) w v same t.need _ _ (literal_steady (among_names []) w v same w.this other (sense (placed_at u w [] []) r).core (sense (placed_at u v [] []) r).core right.core.evaluation));
        more = λ _. same_nothing;
      })
  alike new n whole a b (reading_again {m = m} {l = node Identifier o fs} {r = r} texts again) t taken ds resolved found fine away quiet stack seen w v same known ls y =
      let right = part-like no_all u true [] quiet stack seen w v same ds known value_taken r (operand-right [] m (node Identifier o fs) r t away) [] [] in
      let symbol : is_some (symbol_of o) ≡ true = has-symbol (symbol_of o) again in
      let bound : is_free (w.scope (first_text o.texts)) ≡ false = known.bound (first_text o.texts) ∙ ap not (sym (found (first_text o.texts)) ∙ ap is_some (sym resolved.2.0.0) ∙ symbol) in
      rw (ap first_text texts) (record {
        core = like_by_value (among_names []) w v same t.need _ _ (name_steady (among_names []) w v same (first_text o.texts) refl bound (sense (placed_at u w [] []) r).core (sense (placed_at u v [] []) r).core right.core.evaluation);
        more = λ _. same_nothing;
      })
    where
      has-symbol : (s : Option ℕ) → (is_among_symbols whole.steady s && has_no_fields fs) ≡ true → is_some s ≡ true
      has-symbol (Some z) e = refl
      has-symbol None e = absurd (cc e)
  alike new n whole a b (reading_again {l = node k o fs} texts again) t taken ds resolved found fine away quiet stack seen w v same known ls y = absurd (cc again)

pub coalescing-keeps : (no_all : Bool) (u : Supply) → KeepsRuns no_all u true (Row CoalescingRow coalescing-shape)
coalescing-keeps no_all u = record { alike = λ new n whole a b h. alike no_all u new n whole a b h.rule }
