-- Steady symbols stay unwritten along steps of the built lowerings; and logical assignment, exponentiation and optional chaining, from what is known of the node where
-- they act and goes inwards: its place, and that no steady symbol is written in it.
use Rattle.std.proofs.Common.{◌≡◌, ℕ, refl, sym, ap, ◌∙◌, List}
use Rattle.std.proofs.lemmas.Bool.{or_parts}
use Rattle.std.specs.Prelude.{Bool, true, false, Option, Some}
use Rattle.es_tree.specs.Tree.{Tree, node, Label, Fields, kind_of}
use Rattle.es_tree.specs.Words.{Text}
use Rattle.es_tree.specs.declared.ast_type.AstType.{AstType}
use Rattle.es_tree.specs.declared.ast_type.AstType.TheVariants.{AssignmentExpression, BinaryExpression, ChainExpression, UnaryExpression}
use Rattle.es_runs.specs.Runs.{none_hidden}
use Rattle.es_semantic.specs.RolesOf.{reads, role_at}
use Rattle.es_semantic.specs.declared.place.Role.{Role}
use Rattle.es_resolution.specs.Declarations.{Bound}
use Rattle.es_resolution.specs.Named.{Named}
use Rattle.es_resolution.specs.Resolved.{Place as NamePlace, Resolved}
use Rattle.es_resolution.specs.Written.{is_written, is_written_in, own_writes}
use Rattle.es_steps.specs.Duplication.{is_among_symbols}
use Rattle.es_steps.specs.Exponentiation.{ExponentiationRule}
use Rattle.es_steps.specs.Exponentiation.ExponentiationRule.{power, power_assignment}
use Rattle.es_steps.specs.LogicalAssignment.{LogicalAssignmentRule}
use Rattle.es_steps.specs.LogicalAssignment.LogicalAssignmentRule.{to_computed_member, to_name, to_static_member}
use Rattle.es_steps.specs.Open.{finished_fields}
use Rattle.es_steps.specs.OptionalChaining.{OptionalChainingRule}
use Rattle.es_steps.specs.OptionalChaining.OptionalChainingRule.{as_callee, by_tests, in_delete}
use Rattle.es_steps.specs.Steps.{Site, Whole, site_in}
use Rattle.es_statement_steps.proofs.AloneRules.{alone}
use Rattle.es_statement_runs.specs.Helpers.{Supply}
use Rattle.es_statement_runs.specs.Places.{Take}
use Rattle.es_statement_steps.proofs.Assignments.{AssigningRow, assigning-shape}
use Rattle.es_statement_steps.proofs.AvoidedNames.{Suits, is_aimed}
use Rattle.es_statement_steps.proofs.Below.{both_below, map_below}
use Rattle.es_statement_steps.proofs.Chainings.{ChainingRow}
use Rattle.es_statement_steps.proofs.Doublings.{steady_names}
use Rattle.es_statement_steps.proofs.PlainSupplies.{is_core_supply}
use Rattle.es_statement_steps.proofs.Powers.{RaisingRow, raising-shape}
use Rattle.es_statement_steps.proofs.Premises.{Inwards, Premise, RowWith}
use Rattle.es_statement_steps.proofs.RowRuns.{KeepsRuns}
use Rattle.es_statement_steps.proofs.RowsHere.{Operands, Place, assigning-keeps-here, place-inwards, raising-keeps-here, steady-some}
use Rattle.es_statement_steps.proofs.Stands.{is_inner}
use Rattle.es_statement_steps.proofs.SteadyNames.{NoneWritten, none_below, steady_avoids}
use Rattle.es_statement_steps.proofs.Unwritten.{SteadyIn}

-- ALONG STEPS

-- INWARDS

pub steady-inwards : Inwards (λ n w a. SteadyIn w n.role a)
steady-inwards n w k l fs h =
    let S = λ (m : ℕ). w.steady m ≡ true in
    let roles = role_at n.role k l (finished_fields fs) in
    map_below (λ i t. NoneWritten S (roles i) t) (λ i t. SteadyIn w (roles i) t) (λ i t d. record { old = h.old; unwritten = d }) (finished_fields fs)
    (none_below S roles (finished_fields fs) (λ m e. (or_parts (own_writes m n.role k l) (is_written_in m roles (finished_fields fs)) (h.unwritten m e)).1))

abbrev pub SteadyPlace : Premise
SteadyPlace n w a = Place n w a × SteadyIn w n.role a

pub steady-place-inwards : Inwards SteadyPlace
steady-place-inwards n w k l fs h =
    both_below (λ i t. Place (site_in n k l fs i) w t) (λ i t. SteadyIn w (role_at n.role k l (finished_fields fs) i) t) (finished_fields fs) (place-inwards n w k l fs h.0) (steady-inwards n w k l fs h.1)

-- WHERE ROWS ACT

-- the kinds of nodes that logical assignment, exponentiation and optional chaining take
abbrev pub is_row_kind : AstType → Bool
is_row_kind AssignmentExpression = true
is_row_kind BinaryExpression = true
is_row_kind ChainExpression = true
is_row_kind UnaryExpression = true
is_row_kind k = false

suits-alone : (n : Take) (k : AstType) → is_row_kind k ≡ true → Suits is_aimed reads n k
suits-alone n AssignmentExpression h = record { told = λ e. absurd (cc e); target = λ e a. absurd (cc a); pattern = λ e. absurd (cc e) }
suits-alone n BinaryExpression h = record { told = λ e. absurd (cc e); target = λ e a. absurd (cc a); pattern = λ e. absurd (cc e) }
suits-alone n ChainExpression h = record { told = λ e. absurd (cc e); target = λ e a. absurd (cc a); pattern = λ e. absurd (cc e) }
suits-alone n UnaryExpression h = record { told = λ e. absurd (cc e); target = λ e a. absurd (cc a); pattern = λ e. absurd (cc e) }
suits-alone n k h = absurd (cc h)

-- what is known of such a node doesn't depend on its role
record Read (in_use : Text → Bool) (free : ℕ) (p : NamePlace) (w : Whole) (t : Tree) : Type 0 where
  named : Named in_use free reads t
  resolved : Resolved reads p t
  unwritten : (m : ℕ) → w.steady m ≡ true → is_written m reads t ≡ false
  inner : is_inner (kind_of t) ≡ true

role-alone : (in_use : Text → Bool) (free : ℕ) (p : NamePlace) (w : Whole) (r : Role) (k : AstType) (l : Label) (fs : Fields) → is_row_kind k ≡ true → Named in_use free r (node k l fs) → Resolved r p (node k l fs) →
    ((m : ℕ) → w.steady m ≡ true → is_written m r (node k l fs) ≡ false) → Read in_use free p w (node k l fs)
role-alone in_use free p w r AssignmentExpression l fs k named resolved unwritten = record { named = named; resolved = resolved; unwritten = unwritten; inner = refl }
role-alone in_use free p w r BinaryExpression l fs k named resolved unwritten = record { named = named; resolved = resolved; unwritten = unwritten; inner = refl }
role-alone in_use free p w r ChainExpression l fs k named resolved unwritten = record { named = named; resolved = resolved; unwritten = unwritten; inner = refl }
role-alone in_use free p w r UnaryExpression l fs k named resolved unwritten = record { named = named; resolved = resolved; unwritten = unwritten; inner = refl }
role-alone in_use free p w r _ l fs k named resolved unwritten = absurd (cc k)

-- a symbol that a steady name finds is steady
frozen-steady : (w : Whole) (o : Option ℕ) (m : ℕ) → is_among_symbols w.steady o ≡ true → o ≡ Some m → w.steady m ≡ true
frozen-steady w o m h e = sym (ap (is_among_symbols w.steady) e) ∙ h

pub operands-here : (n : Site) (w : Whole) (a : Tree) → is_row_kind (kind_of a) ≡ true → Place n w a → SteadyIn w n.role a → Operands n w a
operands-here n w (node k l fs) kind place steady =
    let a = node k l fs in
    let scope = n.names.scope in
    let read = role-alone w.in_use w.free_symbol n.names w n.role k l fs kind place.0.named place.0.resolved steady.unwritten in
    record {
      place = place;
      unwritten = λ t. steady_avoids w.in_use w.free_symbol none_hidden (steady_names w scope) (λ x e. refl) reads t n.names a (λ x e. steady-some w (scope x) e) (suits-alone t k kind) read.named read.resolved refl read.inner place.0.fine
          (λ s x e d. read.unwritten s (frozen-steady w (scope x) s e d));
    }

-- the kinds of their nodes

assigning-kind : (n : Site) (w : Whole) (bs : List Bound) (t u : Tree) → LogicalAssignmentRule n w bs t u → is_row_kind (kind_of t) ≡ true
assigning-kind n w bs t u (to_name texts operator alone at) = refl
assigning-kind n w bs t u (to_static_member texts operator alone at flags object) = refl
assigning-kind n w bs t u (to_computed_member texts operator alone at flags object key) = refl

raising-kind : (n : Site) (w : Whole) (bs : List Bound) (t u : Tree) → ExponentiationRule n w bs t u → is_row_kind (kind_of t) ≡ true
raising-kind n w bs t u (power free texts left right) = refl
raising-kind n w bs t u (power_assignment free texts right alone twice) = refl

chaining-kind : (no_all : Bool) (n : Site) (w : Whole) (bs : List Bound) (t u : Tree) → OptionalChainingRule no_all n w bs t u → is_row_kind (kind_of t) ≡ true
chaining-kind no_all n w bs t u (by_tests level walked some) = refl
chaining-kind no_all n w bs t u (as_callee level walked some callee) = refl
chaining-kind no_all n w bs t u (in_delete texts alone target walked some) = refl

-- what they do

pub assigning-keeps-steady : (no_all : Bool) (u : Supply) → is_core_supply u ≡ true → KeepsRuns no_all u true (RowWith AssigningRow assigning-shape SteadyPlace)
assigning-keeps-steady no_all u plain = record { alike = λ new n w a b h. (assigning-keeps-here no_all u plain).alike new n w a b (h.0, operands-here n w a (assigning-kind n w new a b h.0.rule) h.1.0 h.1.1) }

pub raising-keeps-steady : (no_all : Bool) (u : Supply) → is_core_supply u ≡ true → KeepsRuns no_all u true (RowWith RaisingRow raising-shape SteadyPlace)
raising-keeps-steady no_all u plain = record { alike = λ new n w a b h. (raising-keeps-here no_all u plain).alike new n w a b (h.0, operands-here n w a (raising-kind n w new a b h.0.rule) h.1.0 h.1.1) }

pub chaining-operands : (no_all : Bool) (new : List Bound) (n : Site) (w : Whole) (a b : Tree) → ChainingRow no_all n w new a b → SteadyPlace n w a → Operands n w a
chaining-operands no_all new n w a b row h = operands-here n w a (chaining-kind no_all n w new a b row.rule) h.0 h.1
