-- What a switch with `using` in its cases becomes keeps the static rules of places.
use Rattle.std.proofs.Common.{◌≡◌, ℕ, inr, refl, List, [], ◌∷◌}
use Rattle.std.specs.Prelude.{◌⊎◌, true, false}
use Rattle.es_tree.specs.Ancestors.{Ancestor, ancestor, is_labeled_loop}
use Rattle.es_tree.specs.HasForm.{has_form}
use Rattle.es_tree.specs.Tree.{Tree, node, Label, Field, Fields, done, ◌then◌, statements, Trees, empty, ◌before◌, kind_of}
use Rattle.es_tree.specs.declared.ast_type.AstType.TheVariants.{Identifier, SwitchCase, SwitchStatement, TryStatement}
use Rattle.es_tree.specs.declared.table.Sort.{Sort}
use Rattle.es_resolution.specs.Declarations.{Bound}
use Rattle.es_steps.specs.Nodes.{made}
use Rattle.es_steps.specs.Open.{is_import}
use Rattle.es_steps.specs.Rules.{next_name}
use Rattle.es_steps.specs.Steps.{Ledger, Site, Spot}
use Rattle.es_steps.specs.Steps.Spot.{at_node}
use Rattle.es_steps.specs.UsingBlocks.{Constants, error_of, protected}
use Rattle.es_steps.specs.UsingSwitches.{ConstantsInCases, SwitchUsing, switch_fields}
use Rattle.es_steps.specs.UsingSwitches.ConstantsInCases.{no_case, in_case}
use Rattle.es_steps.specs.UsingSwitches.SwitchUsing.{of_switch}
use Rattle.es_steps.proofs.FormRules.{AtNodes}
use Rattle.es_valid_steps.specs.PlaceRules.{Keeps, KeepsAll, KeepsHere}
use Rattle.es_valid_steps.proofs.Changed.{Changed}
use Rattle.es_valid_steps.proofs.Loose.{loose}
use Rattle.es_valid_steps.proofs.Moves.{in-moved}
use Rattle.es_valid_steps.proofs.Offers.{Alike, Near, Offers, near-within, offers-within}
use Rattle.es_valid_using.proofs.Frames.{frame-alike, frame-here, frame-made}
use Rattle.es_valid_using.proofs.UsingFormsStatements.{switch-using-form}
use Rattle.es_valid_using.proofs.UsingMoves.{SameBeside}
use Rattle.es_valid_using.proofs.UsingPlaces.{Sinks, constants-keep, in_try, inside_try, protected-keeps}
use Rattle.es_valid_using.proofs.UsingSinks.{around-try, sunken-near, sunken-offers}
use Rattle.es_valid_using.proofs.UsingSinks.Sunken.{a_switch}
use Rattle.es_valid_using.proofs.UsingTrees.{Framed, UsingLawful}

module _ (c u : Bound) (m : Label) (d : Field) (cs ds : Trees) (up : List Ancestor) where
  abbrev old : Fields
  old = switch_fields d cs

  abbrev new : Fields
  new = switch_fields d ds

  abbrev switch_after : Tree
  switch_after = node SwitchStatement m new

  abbrev to : List Ancestor
  to = inside_try c u (switch_after before empty) up

  alike : (i : ℕ) → Alike (ancestor SwitchStatement m old i 0) (ancestor SwitchStatement m new i 0)
  alike i = frame-alike SwitchStatement m old new i refl (λ e. absurd (cc e))

  offers : (i : ℕ) → Offers true (ancestor SwitchStatement m old i 0 ∷ up) (ancestor SwitchStatement m new i 0 ∷ to)
  offers i = sunken-offers m old new up to (around-try c u (switch_after before empty) up) SwitchStatement i a_switch (alike i)

  near : (i : ℕ) → Near (ancestor SwitchStatement m old i 0 ∷ up) (ancestor SwitchStatement m new i 0 ∷ to)
  near i = sunken-near m old new up to (around-try c u (switch_after before empty) up) SwitchStatement i a_switch (alike i)

  -- a case
  module _ (l : Label) (f : Field) (ts us : Trees) where
    abbrev case_old : Fields
    case_old = f then statements ts then done

    abbrev case_new : Fields
    case_new = f then statements us then done

    case-alike : (i : ℕ) → Alike (ancestor SwitchCase l case_old i 0) (ancestor SwitchCase l case_new i 0)
    case-alike i = record { kind = refl; label = refl; index = refl; labels = refl; derived = refl }

    abbrev case_from : ℕ → List Ancestor
    case_from i = ancestor SwitchCase l case_old i 0 ∷ (ancestor SwitchStatement m old 1 0 ∷ up)

    abbrev case_to : ℕ → List Ancestor
    case_to i = ancestor SwitchCase l case_new i 0 ∷ (ancestor SwitchStatement m new 1 0 ∷ to)

    case-offers : (i : ℕ) → Offers true (case_from i) (case_to i)
    case-offers i = offers-within true (ancestor SwitchStatement m old 1 0 ∷ up) (ancestor SwitchStatement m new 1 0 ∷ to) (ancestor SwitchCase l case_old i 0) (ancestor SwitchCase l case_new i 0) (case-alike i) (offers 1) (λ e. absurd (cc e))

    case-near : (i : ℕ) → Near (case_from i) (case_to i)
    case-near i = near-within (ancestor SwitchStatement m old 1 0 ∷ up) (ancestor SwitchStatement m new 1 0 ∷ to) (ancestor SwitchCase l case_old i 0) (ancestor SwitchCase l case_new i 0) (case-alike i) (near 1)

    case-sinks : Sinks (case_from 1) (case_to 1)
    case-sinks = record { loose_from = loose l case_old 1 0 (ancestor SwitchStatement m old 1 0 ∷ up) SwitchCase refl; loose_to = loose l case_new 1 0 (ancestor SwitchStatement m new 1 0 ∷ to) SwitchCase refl; offers = case-offers 1; place_from = refl; place_to = refl; callee = refl; object = refl }

    case-here : KeepsHere (ancestor SwitchStatement m new 1 0 ∷ to) (node SwitchCase l case_new)
    case-here = record { jump = refl; label = refl; returned = refl; super_word = refl; target = refl; chain = refl; mark = refl; deleted = refl; value = refl; using_word = refl; head = refl; item = refl; accessor = refl; rest = refl; declaration = refl; meta = refl }

    case-keeps : Constants c ts us → Keeps (ancestor SwitchStatement m old 1 0 ∷ up) (node SwitchCase l case_old) → Keeps (ancestor SwitchStatement m new 1 0 ∷ to) (node SwitchCase l case_new)
    case-keeps r h =
        let test = in-moved true (ancestor SwitchStatement m old 1 0 ∷ up) (ancestor SwitchStatement m new 1 0 ∷ to) SwitchCase l case_old case_new 0 (f then done) case-offers case-near (λ e. absurd (cc e)) (h.1.0, tt) in
        (case-here, (test.0, (constants-keep (case_from 1) (case_to 1) case-sinks c ts us r h.1.1.0, tt)))

  cases-keep : (xs ys : Trees) → ConstantsInCases c xs ys → KeepsAll (ancestor SwitchStatement m old 1 0 ∷ up) xs → KeepsAll (ancestor SwitchStatement m new 1 0 ∷ to) ys
  cases-keep xs ys no_case h = tt
  cases-keep xs ys (in_case {l = l} {f = f} {ts = ts} {us = us} {cs = xs'} {ds = ys'} r rs) h = (case-keeps l f ts us r h.0, cases-keep xs' ys' rs h.1)

  switch-keeps : ConstantsInCases c cs ds → Keeps up (node SwitchStatement m old) → Keeps up (protected c u (switch_after before empty))
  switch-keeps r h =
      let tested = in-moved true up to SwitchStatement m old new 0 (d then done) offers near (λ e. absurd (cc e)) (h.1.0, tt) in
      let here = frame-made to SwitchStatement m new refl refl refl in
      protected-keeps c u (switch_after before empty) up (frame-here up SwitchStatement m old TryStatement (made [] []) (in_try c u (switch_after before empty)) refl refl h.0)
      ((here, (tested.0, (cases-keep cs ds r h.1.1.0, tt))), tt)

-- THE RULE

switch-using-keeps : (n : Site) (s s' : Ledger) (t u : Tree) (a : Sort) (up : List Ancestor) → SwitchUsing n s (at_node t) s' (at_node u) → has_form a t ≡ true → Keeps up t → Keeps up u
switch-using-keeps n s s' t u a up (of_switch {w = w} {m = m} {d = d} {cs = cs} {ds = ds} {c = c} has silent takes r) f h = switch-keeps (next_name w c) (error_of w) m d cs ds up r h

switch-nodes : (n : Site) (s s' : Ledger) (x y : Spot) → SwitchUsing n s x s' y → AtNodes x y
switch-nodes n s s' x y (of_switch has silent takes r) = tt

switch-beside : (n : Site) (s s' : Ledger) (x y : Spot) → SwitchUsing n s x s' y → SameBeside s s'
switch-beside n s s' x y (of_switch has silent takes r) = record { pending = refl; this = refl; top = refl }

switch-imports : (n : Site) (s s' : Ledger) (t u : Tree) → SwitchUsing n s (at_node t) s' (at_node u) → is_import u ≡ is_import t
switch-imports n s s' t u (of_switch has silent takes r) = refl

switch-seen : (n : Site) (s s' : Ledger) (t u : Tree) → SwitchUsing n s (at_node t) s' (at_node u) → Changed false t u ⊎ Framed t u
switch-seen n s s' t u (of_switch has silent takes r) = inr (record { was = refl; is = refl })

switch-loops : (n : Site) (s s' : Ledger) (t u : Tree) → SwitchUsing n s (at_node t) s' (at_node u) → is_labeled_loop u ≡ is_labeled_loop t
switch-loops n s s' t u (of_switch has silent takes r) = refl

switch-names : (n : Site) (s s' : Ledger) (t u : Tree) → kind_of t ≡ Identifier → SwitchUsing n s (at_node t) s' (at_node u) → ⊥
switch-names n s s' t u e (of_switch has silent takes r) = absurd (cc e)

pub switch-using : UsingLawful SwitchUsing
switch-using = record { alone = record { nodes = switch-nodes; beside = switch-beside; imports = switch-imports }; formed = λ n s s' t u a lets h f. switch-using-form n s s' t u a h f; keeps = switch-using-keeps; seen = switch-seen; loops = λ n s s' t u e h. switch-loops n s s' t u h; names = switch-names }
