-- Calls of hooks are counted: of a node, of lists and of a program.
use Rattle.std.proofs.Common.{◌≡◌, ◌∙◌, ◌≤◌, ◌+◌, ◌==◌, refl, sym, ap, subst, arith, ℕ, Bool, true, false, true≢false, Option, Some, None, inl, inr}
use Rattle.std.proofs.lemmas.Bool.{eqb-true}
use Rattle.std.specs.Prelude.{if◌then◌else◌, nat_le}
use Rattle.es_tree.specs.Tree.{Tree, node, Label, Fields, Trees, trees}
use Rattle.es_tree.specs.declared.ast_type.AstType.{AstType}
use Rattle.es_tree.specs.declared.ast_type.AstType.TheVariants.{FunctionDeclaration, FunctionExpression, FunctionBody, ArrowFunctionExpression, StaticBlock, VariableDeclaration, CatchClause, TryStatement, ForInStatement, ForOfStatement, BigIntLiteral, ImportSpecifier, ExportSpecifier, ExportAllDeclaration}
use Rattle.es_tree.specs.declared.options.EnvOptions.{EnvOptions}
use Rattle.es_statements.specs.declared.program.Program.{Program}
use Rattle.es_statements.specs.ProgramPlain.{plain_program}
use Rattle.es_visit.specs.declared.hook.Hook.{Hook}
use Rattle.es_visit.specs.declared.hook.Hook.TheVariants.{Expression, Statement, Statements, FormalParameters, ArrowFunctionBody, Program as WholeProgram}
use Rattle.es_visit.specs.Hooks.{hook_of_kind, hook_number}
use Rattle.es_visit.specs.Counts.{Measure, total, total_in, total_among, own_parameters, just, nodes_of, places_of}
use Rattle.es_visit.specs.Calls.{Counted, Goes, GoesOut, GoesOutOfList, KeepsIds, KeepsAllIds, one_call, kind_call, GoesByKind, GoesBySort, GoesAtBody, GoesIn, GoesOutByKind, GoesOutBySort, GoesOutAtBody, GoesOutOfNode}

-- the hooks of kinds
abbrev pub is_of_kind : Hook → Bool
is_of_kind WholeProgram = false
is_of_kind Statements = false
is_of_kind Statement = false
is_of_kind Expression = false
is_of_kind FormalParameters = false
is_of_kind ArrowFunctionBody = false
is_of_kind _ = true

abbrev hook_is_of_kind : Option Hook → Bool
hook_is_of_kind None = true
hook_is_of_kind (Some h) = is_of_kind h

always_of_kind : (k : AstType) → hook_is_of_kind (hook_of_kind k) ≡ true
always_of_kind FunctionDeclaration = refl
always_of_kind FunctionExpression = refl
always_of_kind FunctionBody = refl
always_of_kind ArrowFunctionExpression = refl
always_of_kind StaticBlock = refl
always_of_kind VariableDeclaration = refl
always_of_kind CatchClause = refl
always_of_kind TryStatement = refl
always_of_kind ForInStatement = refl
always_of_kind ForOfStatement = refl
always_of_kind BigIntLiteral = refl
always_of_kind ImportSpecifier = refl
always_of_kind ExportSpecifier = refl
always_of_kind ExportAllDeclaration = refl
always_of_kind _ = refl

pub of_kind : (k : AstType) (h : Hook) → hook_of_kind k ≡ Some h → is_of_kind h ≡ true
of_kind k h e = subst (λ o. hook_is_of_kind o ≡ true) e (always_of_kind k)

-- THE HOOKS OF A NODE ARE THREE

-- whether the hook of this number is that of a kind
abbrev numbers_kind : ℕ → Bool
numbers_kind n = if n == 4 then true else if n == 5 then true else if n == 7 then true else nat_le 9 n

numbered : (h : Hook) → numbers_kind (hook_number h) ≡ is_of_kind h
numbered WholeProgram = refl
numbered _ = refl

call_apart : (b : Bool) (n : ℕ) → b ≡ false → (if b then n else 0) ≡ 0
call_apart true n e = absurd (true≢false e)
call_apart false n e = refl

apart : (g h : Hook) → is_of_kind g ≡ true → is_of_kind h ≡ false → (hook_number g == hook_number h) ≡ false
apart g h e f = by (hook_number g == hook_number h) refl where
  by : (b : Bool) → (hook_number g == hook_number h) ≡ b → b ≡ false
  by true m = absurd (true≢false (sym e ∙ sym (numbered g) ∙ ap numbers_kind (eqb-true (hook_number g) (hook_number h) m) ∙ numbered h ∙ f))
  by false m = refl

-- a hook that is of no kind is not that of this kind
never : (k : AstType) (n : ℕ) (h : Hook) → is_of_kind h ≡ false → kind_call (hook_of_kind k) n h ≡ 0
never k n h f = by (hook_of_kind k) (always_of_kind k) where
  by : (o : Option Hook) → hook_is_of_kind o ≡ true → kind_call o n h ≡ 0
  by None e = refl
  by (Some g) e = call_apart (hook_number g == hook_number h) n (apart g h e f)

pub at_most : (b : Bool) (n : ℕ) → (if b then n else 0) ≤ n
at_most true n = omega arith
at_most false n = omega arith

kind_once : (o : Option Hook) (n : ℕ) (h : Hook) → kind_call o n h ≤ n
kind_once None n h = omega arith
kind_once (Some g) n h = at_most (hook_number g == hook_number h) n

-- so much, but for the hooks of lists
abbrev at_node : ℕ → Hook → ℕ
at_node n Statements = 0
at_node n FormalParameters = 0
at_node n h = n

one_of_all : (k : AstType) (n : ℕ) (h : Hook) → kind_call (hook_of_kind k) n h + (one_call Expression n h + one_call Statement n h) + one_call ArrowFunctionBody n h ≤ at_node n h
one_of_all k n Expression = omega (arith, never k n Expression refl)
one_of_all k n Statement = omega (arith, never k n Statement refl)
one_of_all k n ArrowFunctionBody = omega (arith, never k n ArrowFunctionBody refl)
one_of_all k n Statements = omega (arith, never k n Statements refl)
one_of_all k n FormalParameters = omega (arith, never k n FormalParameters refl)
one_of_all k n h = omega (arith, kind_once (hook_of_kind k) n h)

at_node-most : (n : ℕ) (h : Hook) → at_node n h ≤ n
at_node-most n WholeProgram = omega arith
at_node-most n h = omega arith

at_node-places : (h : Hook) (i : ℕ) → at_node 1 h ≡ (places_of h).node i
at_node-places WholeProgram i = refl
at_node-places _ i = refl

pub just_either : (i j : ℕ) → just i j ≡ just j i
just_either i j = grind arith

module _ {X : Type 0} {suits : X → EnvOptions → Type 0} {tally : X → Hook → ℕ → ℕ} {entries : X → Hook → ℕ} where
  by_sort : {o : EnvOptions} {i : ℕ} {y z : X} → GoesOutBySort suits tally entries o i y z → (h : Hook) (j : ℕ) → tally z h j ≤ tally y h j + (one_call Expression (just i j) h + one_call Statement (just i j) h)
  by_sort {i = i} {y = y} {z = z} g h j = elim g.one_exit as (λ _. tally z h j ≤ tally y h j + (one_call Expression (just i j) h + one_call Statement (just i j) h)) [
    | inl none ↦ omega (arith, none h j)
    | inr once ↦ elim once as (λ _. tally z h j ≤ tally y h j + (one_call Expression (just i j) h + one_call Statement (just i j) h)) [ inl e ↦ omega (arith, e h j) | inr s ↦ omega (arith, s h j) ]
  ]

  at_body : {o : EnvOptions} {i : ℕ} {y z : X} → GoesOutAtBody suits tally entries o i y z → (h : Hook) (j : ℕ) → tally z h j ≤ tally y h j + one_call ArrowFunctionBody (just i j) h
  at_body {i = i} {y = y} {z = z} g h j = elim g.one_exit as (λ _. tally z h j ≤ tally y h j + one_call ArrowFunctionBody (just i j) h) [ inl none ↦ omega (arith, none h j) | inr once ↦ omega (arith, once h j) ]

  in_by_sort : {o : EnvOptions} {y z : X} → GoesBySort suits tally entries o y z → (h : Hook) → entries z h ≤ entries y h + (one_call Expression 1 h + one_call Statement 1 h)
  in_by_sort {y = y} {z = z} g h = elim g.one_entry as (λ _. entries z h ≤ entries y h + (one_call Expression 1 h + one_call Statement 1 h)) [
    | inl none ↦ omega (arith, none h)
    | inr once ↦ elim once as (λ _. entries z h ≤ entries y h + (one_call Expression 1 h + one_call Statement 1 h)) [ inl e ↦ omega (arith, e h) | inr s ↦ omega (arith, s h) ]
  ]

  in_at_body : {o : EnvOptions} {y z : X} → GoesAtBody suits tally entries o y z → (h : Hook) → entries z h ≤ entries y h + one_call ArrowFunctionBody 1 h
  in_at_body {y = y} {z = z} g h = elim g.one_entry as (λ _. entries z h ≤ entries y h + one_call ArrowFunctionBody 1 h) [ inl none ↦ omega (arith, none h) | inr once ↦ omega (arith, once h) ]

  -- the enter hooks of a node: of its place, its sort and its kind
  pub enters_once : {o o' o'' : EnvOptions} (k : AstType) {x y z w : X} → o' ≡ o → o'' ≡ o' → GoesAtBody suits tally entries o x y → GoesBySort suits tally entries o' y z → GoesByKind suits tally entries o'' k z w → GoesIn suits tally entries o x w
  enters_once k {w = w} e f a b c = record {
    suits_still = subst (λ u. suits w u) (f ∙ e) c.suits_still;
    no_exit = λ h j. omega (arith, a.no_exit h j, b.no_exit h j, c.no_exit h j);
    enters = λ h i. omega (arith, in_at_body a h, in_by_sort b h, c.one_entry h, one_of_all k 1 h, at_node-places h i);
  }

  -- its exit hooks, in the other order
  pub exits_once : {o o' o'' : EnvOptions} (k : AstType) {i i' i'' : ℕ} {x y z w : X} → o' ≡ o → o'' ≡ o' → i' ≡ i → i'' ≡ i' → GoesOutByKind suits tally entries o k i x y → GoesOutBySort suits tally entries o' i' y z → GoesOutAtBody suits tally entries o'' i'' z w →
      GoesOutOfNode suits tally entries o i x w
  exits_once {o = o} {o' = o'} {o'' = o''} k {i = i} {i' = i'} {i'' = i''} {y = y} {z = z} {w = w} e f q r a b' c' =
      let b : GoesOutBySort suits tally entries o' i y z = subst (λ n. GoesOutBySort suits tally entries o' n y z) q b' in
      let c : GoesOutAtBody suits tally entries o'' i z w = subst (λ n. GoesOutAtBody suits tally entries o'' n z w) (r ∙ q) c' in
      record {
        suits_still = subst (λ u. suits w u) (f ∙ e) c.suits_still;
        exits = λ h j. omega (arith, a.one_exit h j, by_sort b h j, at_body c h j, one_of_all k (just i j) h, at_node-most (just i j) h, just_either i j);
        no_entry = λ h. omega (arith, a.no_entry h, b.no_entry h, c.no_entry h);
      }

  -- with a greater sum as well
  pub counted_within : {o o' : EnvOptions} {x y : X} {sum more : Measure → ℕ} → o ≡ o' → ((m : Measure) → sum m ≤ more m) → Counted suits tally entries o x y sum → Counted suits tally entries o' x y more
  counted_within {y = y} e g c = record {
    suits_still = subst (λ u. suits y u) e c.suits_still;
    exits = λ h j. omega (arith, c.exits h j, g (nodes_of j));
    enters = λ h. omega (arith, c.enters h, g (places_of h));
  }

-- THE HOOKS AND THE FIELDS OF A NODE

pub node_counted : {X : Type 0} {suits : X → EnvOptions → Type 0} {tally : X → Hook → ℕ → ℕ} {entries : X → Hook → ℕ} {o o' o'' : EnvOptions} {x y z w : X} (k : AstType) (l : Label) (gs : Fields) (v : Tree) → o' ≡ o → o'' ≡ o' →
    GoesIn suits tally entries o x y → Counted suits tally entries o' y z (λ m. own_parameters m.parameters k + total_in m gs) → GoesOutOfNode suits tally entries o'' l.id z w → KeepsIds (node k l gs) v → Counted suits tally entries o x w (λ m. total m v)
node_counted {suits = suits} {w = w} k l gs v e f a b c ids = record {
  suits_still = subst (λ u. suits w u) (f ∙ e) c.suits_still;
  exits = λ h j. omega (arith, a.no_exit h j, b.exits h j, c.exits h j, ids.all (nodes_of j));
  enters = λ h. omega (arith, a.enters h l.id, b.enters h, c.no_entry h, ids.all (places_of h));
}

-- LISTS

-- the hook of the list itself
statements_once : (h : Hook) → one_call Statements 1 h ≤ (places_of h).list
statements_once Statements = omega arith
statements_once h = omega arith

parameters_once : (h : Hook) → one_call FormalParameters 1 h ≤ (places_of h).parameters
parameters_once FormalParameters = omega arith
parameters_once h = omega arith

module _ {X : Type 0} {suits : X → EnvOptions → Type 0} {tally : X → Hook → ℕ → ℕ} {entries : X → Hook → ℕ} {o o' o'' : EnvOptions} {x y z w : X} (us ws : Trees) (e : o' ≡ o) (f : o'' ≡ o') where
  between_hooks : (hook : Hook) (own : Measure → ℕ) → ((h : Hook) → one_call hook 1 h ≤ own (places_of h)) → Goes suits tally entries o hook x y → Counted suits tally entries o' y z (λ m. total_among m us) → GoesOutOfList suits tally entries o'' z w → KeepsAllIds us ws →
      Counted suits tally entries o x w (λ m. own m + total_among m ws)
  between_hooks hook own once a c b k = record {
    suits_still = subst (λ u. suits w u) (f ∙ e) b.suits_still;
    exits = λ h j. omega (arith, a.no_exit h j, c.exits h j, b.no_exit h j, k (nodes_of j));
    enters = λ h. omega (arith, a.one_entry h, c.enters h, b.no_entry h, k (places_of h), once h);
  }

  pub statements_counted : Goes suits tally entries o Statements x y → Counted suits tally entries o' y z (λ m. total_among m us) → GoesOutOfList suits tally entries o'' z w → KeepsAllIds us ws → Counted suits tally entries o x w (λ m. m.list + total_among m ws)
  statements_counted = between_hooks Statements (λ m. m.list) statements_once

  pub parameters_counted : Goes suits tally entries o FormalParameters x y → Counted suits tally entries o' y z (λ m. total_among m us) → GoesOutOfList suits tally entries o'' z w → KeepsAllIds us ws → Counted suits tally entries o x w (λ m. m.parameters + total_among m ws)
  parameters_counted = between_hooks FormalParameters (λ m. m.parameters) parameters_once

-- PROGRAMS

program_once : (h : Hook) (i : ℕ) → one_call WholeProgram 1 h ≤ (places_of h).node i
program_once WholeProgram i = omega arith
program_once h i = omega arith

program_exits : (i : ℕ) (h : Hook) (j : ℕ) → one_call WholeProgram (just i j) h ≤ just i j
program_exits i h j = at_most (hook_number WholeProgram == hook_number h) (just i j)

-- the nodes of the statements, and the program's own hook
pub whole_counted : {X : Type 0} {suits : X → EnvOptions → Type 0} {tally : X → Hook → ℕ → ℕ} {entries : X → Hook → ℕ} {o o' o'' : EnvOptions} {x y z w : X} (p q : Program) → o' ≡ o → o'' ≡ o' →
    Goes suits tally entries o WholeProgram x y → Counted suits tally entries o' y z (λ m. m.list + total_among m (trees p.body.items)) → GoesOut suits tally entries o'' WholeProgram p.id.0 z w → KeepsIds (plain_program p) (plain_program q) → Counted suits tally entries o x w (λ m. total m (plain_program q))
whole_counted {suits = suits} {w = w} p q e f a c b k = record {
  suits_still = subst (λ u. suits w u) (f ∙ e) b.suits_still;
  exits = λ h j. omega (arith, a.no_exit h j, c.exits h j, b.one_exit h j, program_exits p.id.0 h j, just_either p.id.0 j, k.all (nodes_of j));
  enters = λ h. omega (arith, a.one_entry h, c.enters h, b.no_entry h, program_once h p.id.0, k.all (places_of h));
}
