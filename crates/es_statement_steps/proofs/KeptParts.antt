-- What stays of a row, in cells that are kept: each part is alike on both sides, and what is duplicated gives the same value twice.
use Rattle.std.proofs.Common.{◌≡◌, refl, sym, ap, subst, ◌∙◌, Option, Some, None, List, [], ◌∷◌}
use Rattle.std.specs.Prelude.{Bool, true, false, not, ◌||◌, bytes_eq}
use Rattle.es_tree.specs.Names.{first_text}
use Rattle.es_tree.specs.Scopes.{Declared}
use Rattle.es_tree.specs.Tree.{Tree, node, done, ◌then◌, many, empty, ◌before◌}
use Rattle.es_tree.specs.Words.{Text}
use Rattle.es_tree.specs.declared.ast_type.AstType.TheVariants.{BigIntLiteral, BooleanLiteral, Identifier, NullLiteral, NumericLiteral, StringLiteral, Super, TemplateElement, TemplateLiteral, ThisExpression}
use Rattle.es_runs.specs.Alike.{Agree, Alike, Equal, Frame, LikeAt, Level, SameWorld, bad_names, kept_cells}
use Rattle.es_runs.specs.Alike.Agree.{agree}
use Rattle.es_runs.specs.Alike.Level.{value_alone}
use Rattle.es_runs.specs.Core.{Form, World, flag, is_free, literal, name, number_form, second, value}
use Rattle.es_runs.specs.Core.Form.{null_form, other}
use Rattle.es_runs.specs.Duplication.{IsDuplicated, has_no_fields, is_cooked, is_read_again}
use Rattle.es_runs.specs.Duplication.IsDuplicated.{by_temporary, read_again}
use Rattle.es_runs.specs.Machine.{Cell, State, Value}
use Rattle.es_runs.specs.Machine.Cell.{holds, unset}
use Rattle.es_runs.specs.Machine.Result.{gives}
use Rattle.es_runs.specs.Machine.State.{state}
use Rattle.es_runs.specs.Machine.Value.{bigint, boolean, null, number, text}
use Rattle.es_runs.specs.Runs.{none_hidden, only}
use Rattle.es_runs.proofs.Duplicated.{AllSet, Gives, Twice, kept_agree, read_names, stored_twice}
use Rattle.es_runs.proofs.Duplicated.Twice.{both_read, neither_read}
use Rattle.es_runs.proofs.Named.{and_left, or_first}
use Rattle.es_runs.proofs.NullishCoalescingValues.{cell_gives}
use Rattle.es_runs.proofs.Temporary.{bytes_eq-self}
use Rattle.es_runs.proofs.Written.{one_of}
use Rattle.es_statement_runs.specs.Alike.{Quiet, SenseLike, StackSeen}
use Rattle.es_statement_runs.specs.Helpers.{Supply}
use Rattle.es_statement_runs.specs.Helpers.Supply.{no_helpers, spread_by_global, by_global, by_import, by_require}
use Rattle.es_statement_runs.specs.Kinds.{sense}
use Rattle.es_statement_runs.specs.Laws.{among_names}
use Rattle.es_statement_runs.specs.Names.{names_of_all}
use Rattle.es_statement_runs.specs.Places.{SupplySeen, Take, all_good, avoids, placed_at}
use Rattle.es_statement_runs.specs.Scopes.{is_own_cell, stack_cell}
use Rattle.es_statement_runs.proofs.BareVars.{beside_like, said_alike_from, self_beside}
use Rattle.es_statement_runs.proofs.BareVars.Places.{both_at}
use Rattle.es_statement_runs.proofs.Everywhere.{both_left, both_right, not_so}
use Rattle.es_statement_steps.proofs.PlainSupplies.{core, is_core_supply, stores}
use Rattle.es_statement_steps.proofs.RowRuns.{WorldsKnown, bad_temporaries, known-inside, temporaries_frame}

-- scopes that declare no bad name declare no temporary
still-good : (xs : List Text) (steady : Text → Bool) (ys : List Text) → all_good (bad_names (among_names xs) steady) ys ≡ true → all_good (bad_temporaries xs) ys ≡ true
still-good xs steady [] h = refl
still-good xs steady (y ∷ ys) h =
    let bad : Bool = not (among_names xs y || steady y) in
    let good : (among_names xs y || steady y) ≡ false = not_so (among_names xs y || steady y) (both_left bad (all_good (bad_names (among_names xs) steady) ys) h) in
    rw (hidden-free (among_names xs y) (steady y) good, still-good xs steady ys (both_right bad (all_good (bad_names (among_names xs) steady) ys) h)) refl
  where
    hidden-free : (a b : Bool) → (a || b) ≡ false → (a || false) ≡ false
    hidden-free true b e = absurd (cc e)
    hidden-free false b e = refl

-- the names of helpers are seen where the same names are hidden
kept-seen : (u : Supply) (xs : List Text) (steady : Text → Bool) (d : Text → Cell) → SupplySeen (temporaries_frame true xs) u → SupplySeen (kept_cells (among_names xs) steady d) u
kept-seen no_helpers xs steady d h = tt
kept-seen spread_by_global xs steady d h = record { global = h.global; require = h.require }
kept-seen by_global xs steady d h = record { global = h.global; require = h.require }
kept-seen (by_import m) xs steady d h = record { global = h.global; require = h.require }
kept-seen (by_require m) xs steady d h = record { global = h.global; require = h.require }

module _ (no_all : Bool) (u : Supply) (plain : is_core_supply u ≡ true) (xs : List Text) (steady : Text → Bool) (own : (y : Text) → steady y ≡ true → is_own_cell y ≡ false) (quiet : Quiet (temporaries_frame true xs)) (stack : StackSeen (temporaries_frame true xs)) (seen : SupplySeen (temporaries_frame true xs) u)
    (w v : World) (same : SameWorld (among_names xs) w v) (ds : List Declared) (known : WorldsKnown no_all true xs ds w v) where
  abbrev hidden : Text → Bool
  hidden = among_names xs

  abbrev bad : Level → Text → Bool
  bad = bad_names hidden steady

  abbrev K : (Text → Cell) → Frame
  K d = kept_cells hidden steady d

  unfrozen : (y : Text) → is_own_cell y ≡ true → steady y ≡ false
  unfrozen y e = at (steady y) refl
    where
      at : (b : Bool) → steady y ≡ b → b ≡ false
      at true h = let k = own y h in absurd (cc (k, e))
      at false h = refl

  quiet-kept : (d : Text → Cell) → Quiet (K d)
  quiet-kept d = record { own_seen = λ y e i. record { hidden = (quiet.own_seen y e i).hidden; frozen = unfrozen y e; loose = refl }; math = quiet.math }

  stack-kept : (d : Text → Cell) → StackSeen (K d)
  stack-kept d = record { hidden = stack.hidden; frozen = unfrozen stack_cell refl; loose = refl }

  pub kept-part : (d : Text → Cell) (t : Take) (a : Tree) → avoids bad t a ≡ true → (ls : List Text) (x : Text) → SenseLike (K d) w v t (sense (placed_at u w ls x) a) (sense (placed_at u v ls x) a)
  kept-part d t a h ls x =
      beside_like (K d) (quiet-kept d) (stack-kept d) bad (λ n x h. h) u (kept-seen u xs steady d seen) (WorldsKnown no_all true xs) (λ ds w v same k. said_alike_from (K d) u w v same k.unsaid)
      (λ ds es good w v k. known-inside no_all true xs ds es (still-good xs steady (names_of_all es) good) w v k) (λ ds t a b. ⊥) (λ ds t a b e. absurd e) (self_beside bad (λ ds t a b. ⊥) a ds t h) (both_at same known)

  pub value-kept : (d : Text → Cell) (t : Take) → t.need.level ≡ value_alone → (a : Tree) → avoids bad t a ≡ true → Alike (K d) Equal (value w (core u w a)) (value v (core u v a))
  value-kept d t level a h = subst (λ (n : Level). LikeAt (K d) w v n (core u w a) (core u v a)) level (kept-part d t a h [] []).core.evaluation

  -- WHAT IS WRITTEN DOWN AGAIN

  module _ (bound : (y : Text) → steady y ≡ true → is_free (w.scope y) ≡ false) where
    name-gives : (y : Text) → hidden y ≡ false → steady y ≡ true → (z : Value) (d : Text → Cell) → d y ≡ holds z → Gives v (name y) (only y) z d
    name-gives y here still z d h (state c ms qs) k = cell_gives hidden w v same y v (w.scope y) (bound y still) (same.scope y here) c ms qs (holds z) (k y (bytes_eq-self y) ∙ h)

    name-twice : (mine : Text → Bool) (y : Text) → hidden y ≡ false → steady y ≡ true → (d0 : Text → Cell) → AllSet hidden d0 → (s t : State) → Agree (K d0) s t → Twice hidden steady v mine d0 (name y) (only y) (value w (name y) s) (value v (name y) t)
    name-twice mine y here still d0 set _ _ (agree {c = c} {d = d} {ms = ms} {qs = qs} h g f) = at (d0 y) refl
      where
        at : (o : Cell) → d0 y ≡ o → Twice hidden steady v mine d0 (name y) (only y) (value w (name y) (state c ms qs)) (value v (name y) (state d ms qs))
        at unset i = rw (cell_gives hidden w v same y w (w.scope y) (bound y still) refl c ms qs unset (sym (h y here) ∙ (f y still ∙ i)), cell_gives hidden w v same y v (w.scope y) (bound y still) (same.scope y here) d ms qs unset (f y still ∙ i)) (neither_read (kept_agree hidden steady d0 set _ _ (agree h g f)))
        at (holds z) i = rw (cell_gives hidden w v same y w (w.scope y) (bound y still) refl c ms qs (holds z) (sym (h y here) ∙ (f y still ∙ i)), cell_gives hidden w v same y v (w.scope y) (bound y still) (same.scope y here) d ms qs (holds z) (f y still ∙ i)) (both_read z d0 set (λ y e. refl) (name-gives y here still z d0 i) (agree h g f))

    constant-twice : (mine : Text → Bool) (z : Value) (f : Form) (d0 : Text → Cell) → AllSet hidden d0 → (s t : State) → Agree (K d0) s t → Twice hidden steady v mine d0 (literal z f) none_hidden (gives z s) (gives z t)
    constant-twice mine z f d0 set s t a = both_read z d0 set (λ y e. refl) (λ y h. refl) a

    this-twice : (mine : Text → Bool) (i j : Value) → j ≡ i → (d0 : Text → Cell) → AllSet hidden d0 → (s t : State) → Agree (K d0) s t → Twice hidden steady v mine d0 (literal j other) none_hidden (gives i s) (gives j t)
    this-twice mine i j e d0 set s t a = rw e (constant-twice mine i other d0 set s t a)

    again-twice : (mine : Text → Bool) (t : Take) → t.need.level ≡ value_alone → (e : Tree) → is_read_again steady e ≡ true → avoids bad t e ≡ true → (d0 : Text → Cell) → AllSet hidden d0 → (s z : State) → Agree (K d0) s z →
        Twice hidden steady v mine d0 (core u v e) (read_names e) (value w (core u w e) s) (value v (core u v e) z)
    again-twice mine t level (node Identifier l fs) h n d0 set s z a =
        let y : Text = first_text l.texts in
        let good : bad value_alone y ≡ false = sym (ap (λ (k : Level). bad k y) level) ∙ not_so (bad t.need.level y) (both_left (not (bad t.need.level y)) _ n) in
        name-twice mine y good (and_left (steady y) (has_no_fields fs) h) d0 set s z a
    again-twice mine t level (node ThisExpression l fs) h n d0 set s z a = this-twice mine w.this v.this same.this d0 set s z a
    again-twice mine t level (node Super l fs) h n d0 set s z a = neither_read (kept_agree hidden steady d0 set s z a)
    again-twice mine t level (node NullLiteral l fs) h n d0 set s z a = constant-twice mine null null_form d0 set s z a
    again-twice mine t level (node BooleanLiteral l fs) h n d0 set s z a = constant-twice mine (boolean (flag l.flags)) other d0 set s z a
    again-twice mine t level (node NumericLiteral l fs) h n d0 set s z a = constant-twice mine (number (second l.texts)) (number_form (second l.texts)) d0 set s z a
    again-twice mine t level (node BigIntLiteral l fs) h n d0 set s z a = constant-twice mine (bigint (second l.texts)) other d0 set s z a
    again-twice mine t level (node StringLiteral l fs) h n d0 set s z a = constant-twice mine (text (first_text l.texts)) other d0 set s z a
    again-twice mine t level (node TemplateLiteral l (many (node TemplateElement m done before empty) then (many empty then done))) h n d0 set s z a = at m.texts refl h
      where
        at : (ts : List (Option Text)) → m.texts ≡ ts → is_cooked ts ≡ true → Twice hidden steady v mine d0 (core u v (node TemplateLiteral l (many (node TemplateElement m done before empty) then (many empty then done)))) none_hidden
            (value w (core u w (node TemplateLiteral l (many (node TemplateElement m done before empty) then (many empty then done)))) s) (value v (core u v (node TemplateLiteral l (many (node TemplateElement m done before empty) then (many empty then done)))) z)
        at (raw ∷ Some x ∷ []) e k = rw e (constant-twice mine (text x) other d0 set s z a)
        at (raw ∷ None ∷ []) e k = absurd (cc k)
        at [] e k = absurd (cc k)
        at (raw ∷ []) e k = absurd (cc k)
        at (raw ∷ (y ∷ (x ∷ ts))) e k = absurd (cc k)
    again-twice mine t level (node _ l fs) h n d0 set s z a = absurd (cc h)

    -- an expression that is duplicated
    pub doubled-twice : {in_use : Text → Bool} {ys : List Text} {e e1 e2 : Tree} → IsDuplicated steady in_use ys e e1 e2 → ((y : Text) → one_of ys y ≡ true → hidden y ≡ true) → (t : Take) → t.need.level ≡ value_alone → avoids bad t e ≡ true → (d0 : Text → Cell) → AllSet hidden d0 → (s z : State) → Agree (K d0) s z →
        Twice hidden steady v (one_of ys) d0 (core u v e2) (read_names e2) (value w (core u w e) s) (value v (core u v e1) z)
    doubled-twice (read_again {e = e} h) cover t level n d0 set s z a = again-twice (one_of []) t level e h n d0 set s z a
    doubled-twice (by_temporary {e = e} {x = x} h fresh) cover t level n d0 set s z a =
        let mine : one_of (x ∷ []) x ≡ true = rw bytes_eq-self in
        let var = known.temporaries refl x (cover x mine) in
        rw (stores u plain v x e z) (stored_twice hidden steady v x (cover x mine) var (one_of (x ∷ [])) (λ y k. or_first (bytes_eq y x) false k) d0 set (value-kept d0 t level e n s z a))
