-- Logical assignment, exponentiation and optional chaining, from what is known of the place where they act: what is left to know of a node is that no steady
-- name is written in it.
use Rattle.std.proofs.Common.{◌≡◌, ℕ, refl, sym, ◌∙◌, List}
use Rattle.std.specs.Prelude.{Bool, true, false, not, Option, Some, None, is_some}
use Rattle.std.proofs.lemmas.Bool.{and_parts}
use Rattle.es_tree.specs.Tree.{Tree, kind_of}
use Rattle.es_tree.specs.Walks.{all_in_fields, all_nodes}
use Rattle.es_tree.specs.Words.{Text}
use Rattle.es_runs.specs.Alike.{bad_names}
use Rattle.es_runs.specs.Rules.{strays}
use Rattle.es_runs.specs.Runs.{none_hidden}
use Rattle.es_resolution.specs.Declarations.{Bound}
use Rattle.es_resolution.specs.Resolved.{Place as NamePlace}
use Rattle.es_steps.specs.Duplication.{is_among_symbols}
use Rattle.es_steps.specs.Exponentiation.{ExponentiationRule}
use Rattle.es_steps.specs.Exponentiation.ExponentiationRule.{power, power_assignment}
use Rattle.es_steps.specs.LogicalAssignment.{LogicalAssignmentRule}
use Rattle.es_steps.specs.LogicalAssignment.LogicalAssignmentRule.{to_name, to_static_member, to_computed_member}
use Rattle.es_steps.specs.Open.{finished_fields}
use Rattle.es_steps.specs.OptionalChaining.{OptionalChainingRule}
use Rattle.es_steps.specs.OptionalChaining.OptionalChainingRule.{by_tests, as_callee, in_delete}
use Rattle.es_steps.specs.Steps.{Site, Whole, site_in}
use Rattle.es_statement_runs.specs.Helpers.{Supply}
use Rattle.es_statement_runs.specs.Places.{Take, avoids}
use Rattle.es_statement_runs.specs.Scopes.{is_own_cell}
use Rattle.es_statement_steps.proofs.Assignments.{AssigningRow, assigning-keeps, assigning-shape}
use Rattle.es_statement_steps.proofs.Below.{both_below, nodes_below}
use Rattle.es_statement_steps.proofs.Chainings.{ChainingRow, SoundChaining, chaining-shape}
use Rattle.es_statement_steps.proofs.Doublings.{steady_names}
use Rattle.es_statement_steps.proofs.MeantOperands.{is_taken, meant-over, meant_node}
use Rattle.es_statement_steps.proofs.PlacePremises.{Here, NamesKnown, here-inwards}
use Rattle.es_statement_steps.proofs.PlainSupplies.{is_core_supply}
use Rattle.es_statement_steps.proofs.Powers.{RaisingRow, raising-keeps, raising-shape}
use Rattle.es_statement_steps.proofs.Premises.{Inwards, Premise, RowWith}
use Rattle.es_statement_steps.proofs.RowRuns.{KeepsRuns}
use Rattle.es_statement_steps.proofs.SettledRows.{Sound}
use Rattle.es_statement_steps.proofs.Stands.{is_inner}

-- what is known of a node, and goes inwards: its names, and that each node in it that isn't core means something
abbrev pub Place : Premise
Place n w a = Here n w a × (all_nodes meant_node a ≡ true)

pub place-inwards : Inwards Place
place-inwards n w k l fs h =
    both_below (λ i t. Here (site_in n k l fs i) w t) (λ i t. all_nodes meant_node t ≡ true) (finished_fields fs) (here-inwards n w k l fs h.0)
    (nodes_below meant_node (finished_fields fs) (and_parts (meant_node k l (finished_fields fs)) (all_in_fields meant_node (finished_fields fs)) h.1).1)

-- what is left to know
pub record Operands (n : Site) (w : Whole) (a : Tree) : Type 0 where
  pub place : Place n w a
  pub unwritten : (t : Take) → avoids (bad_names none_hidden (steady_names w n.names.scope)) t a ≡ true

pub steady-some : (w : Whole) (s : Option ℕ) → is_among_symbols w.steady s ≡ true → is_some s ≡ true
steady-some w (Some s) h = refl
steady-some w None h = absurd (cc h)

not-so : (b : Bool) → not b ≡ true → b ≡ false
not-so true e = absurd (cc e)
not-so false e = refl

-- a steady name is declared around, so that it is no cell of the machine's own
steady-clean : (p : NamePlace) (w : Whole) → NamesKnown p → (y : Text) → steady_names w p.scope y ≡ true → is_own_cell y ≡ false
steady-clean p w names y e = not-so (is_own_cell y) (names.clean y (sym (names.found y) ∙ steady-some w (p.scope y) e))

pub sound-here : (n : Site) (w : Whole) (a : Tree) → is_inner (kind_of a) ≡ true → is_taken (kind_of a) ≡ true → Operands n w a → Sound (steady_names w n.names.scope) a
sound-here n w a inner taken h = record { own = steady-clean n.names w h.place.0.names; meant = meant-over a inner taken h.place.0.fine h.place.1; unwritten = h.unwritten }

assigning-taken : (n : Site) (w : Whole) (bs : List Bound) (t u : Tree) → LogicalAssignmentRule n w bs t u → is_taken (kind_of t) ≡ true
assigning-taken n w bs t u (to_name texts operator alone at) = refl
assigning-taken n w bs t u (to_static_member texts operator alone at flags object) = refl
assigning-taken n w bs t u (to_computed_member texts operator alone at flags object key) = refl

pub assigning-keeps-here : (no_all : Bool) (u : Supply) → is_core_supply u ≡ true → KeepsRuns no_all u true (RowWith AssigningRow assigning-shape Operands)
assigning-keeps-here no_all u plain = record { alike = λ new n whole a b h. (assigning-keeps no_all u plain).alike new n whole a b (record { row = h.0; sound = sound-here n whole a (assigning-shape.first n whole new a b h.0).1 (assigning-taken n whole new a b h.0.rule) h.1 }) }

raising-taken : (n : Site) (w : Whole) (bs : List Bound) (t u : Tree) → ExponentiationRule n w bs t u → is_taken (kind_of t) ≡ true
raising-taken n w bs t u (power free texts left right) = refl
raising-taken n w bs t u (power_assignment free texts right alone object) = refl

pub raising-keeps-here : (no_all : Bool) (u : Supply) → is_core_supply u ≡ true → KeepsRuns no_all u true (RowWith RaisingRow raising-shape Operands)
raising-keeps-here no_all u plain = record { alike = λ new n whole a b h. (raising-keeps no_all u plain).alike new n whole a b (record { row = h.0; sound = sound-here n whole a (raising-shape.first n whole new a b h.0).1 (raising-taken n whole new a b h.0.rule) h.1 }) }

-- optional chaining, where what its place takes here is taken there
chaining-taken : {no_all : Bool} {w : Whole} (n : Site) (bs : List Bound) (t u : Tree) → OptionalChainingRule no_all n w bs t u → is_taken (kind_of t) ≡ true
chaining-taken n bs t u (by_tests level r some) = refl
chaining-taken n bs t u (as_callee level r some callee) = refl
chaining-taken n bs t u (in_delete texts alone target r some) = refl

pub chaining-here : (no_all : Bool) (new : List Bound) (n : Site) (w : Whole) (a b : Tree) → ChainingRow no_all n w new a b → Operands n w a → strays false a ≡ false → SoundChaining no_all new n w a b
chaining-here no_all new n w a b row h tidy = record { sound = record { row = row; sound = sound-here n w a ((chaining-shape no_all).first n w new a b row).1 (chaining-taken n new a b row.rule) h }; named = h.place.0.named; tidy = tidy }
