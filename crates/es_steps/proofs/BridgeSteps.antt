-- A step by symbols of an open core program is a step by names.
use Rattle.std.proofs.Common.{◌≡◌, inl, inr, ℕ, refl, sym, ap, subst, ◌∙◌, List, [], ◌∷◌, ◌++◌, map}
use Rattle.std.specs.Prelude.{Bool, true, false, ◌||◌, Option, Some, None, bytes_eq, codes, is_some, if◌then◌else◌}
use Rattle.std.proofs.Math.Bool.{or-false}
use Rattle.es_tree.specs.Ancestors.{Ancestor}
use Rattle.es_tree.specs.Bare.{bare}
use Rattle.es_tree.specs.Core.{is_core_kind}
use Rattle.es_tree.specs.Fresh.{is_among}
use Rattle.es_tree.specs.HasForm.{same_type}
use Rattle.es_tree.specs.Names.{names_of}
use Rattle.es_tree.specs.Scopes.{declared_of, declares, is_steady}
use Rattle.es_tree.specs.Tree.{Tree, Label}
use Rattle.es_tree.specs.Words.{Text}
use Rattle.es_tree.specs.declared.ast_type.AstType.{AstType}
use Rattle.es_tree.specs.declared.ast_type.AstType.TheVariants.{ArrowFunctionExpression, AssignmentPattern, BlockStatement, CatchClause, ClassDeclaration, ClassExpression, ForInStatement, ForOfStatement, ForStatement, FunctionBody, FunctionDeclaration, FunctionExpression, PatternProperty, Program, PropertyDefinition, StaticBlock, SwitchStatement}
use Rattle.es_tree.specs.declared.options.EnvOptions.{EnvOptions}
use Rattle.es_semantic.specs.SymbolsOf.{symbol_in, symbols_of}
use Rattle.es_runs.specs.Alike.{Need}
use Rattle.es_runs.specs.NullishCoalescing.{also_all}
use Rattle.es_runs.specs.Open as plain
use Rattle.es_runs.specs.OpenRules as rules
use Rattle.es_runs.specs.OpenRules.Replacing.{replaces as plain_replaces}
use Rattle.es_runs.specs.OpenRules.Writing.{writes as plain_writes}
use Rattle.es_runs.specs.OpenSteps as steps
use Rattle.es_runs.specs.OpenSteps.Step.{acts as plain_acts, inside as plain_inside}
use Rattle.es_runs.specs.OpenSteps.FieldsStep.{in_first as plain_in_first, in_later as plain_in_later}
use Rattle.es_runs.specs.OpenSteps.FieldStep.{in_child as plain_in_child, in_children as plain_in_children, within as plain_within, acts_on_list as plain_acts_on_list}
use Rattle.es_runs.specs.OpenSteps.TreesStep.{in_head as plain_in_head, in_tail as plain_in_tail}
use Rattle.es_runs.proofs.Named.{among-append}
use Rattle.es_resolution.specs.Declarations.{Bound}
use Rattle.es_steps.specs.CoreBridge.{forgotten_ledger, forgotten_pending, forgotten_whole, names_among}
use Rattle.es_steps.specs.CoreRules.{RowRule, rows_under, where_on}
use Rattle.es_steps.specs.Exponentiation.{ExponentiationRule}
use Rattle.es_steps.specs.LogicalAssignment.{LogicalAssignmentRule}
use Rattle.es_steps.specs.Nodes.{declarator, identifier}
use Rattle.es_steps.specs.NullishCoalescing.{NullishCoalescingRule}
use Rattle.es_steps.specs.Open.{Pending, Additions, no_additions, OpenFields, with_vars}
use Rattle.es_steps.specs.OptionalChaining.{OptionalChainingRule}
use Rattle.es_steps.specs.Rules.{Writing, either_rule, with_made}
use Rattle.es_steps.specs.Rules.Replacing.{replaces}
use Rattle.es_steps.specs.Rules.Writing.{declarators, all_pending, body_declarators, insertions}
use Rattle.es_steps.specs.Slots.{is_slot}
use Rattle.es_steps.specs.Steps.{Whole, Ledger, ledger, Site, Spot, at_node, site_in}
use Rattle.es_steps.specs.WrapRule.{WrapRule}
use Rattle.es_steps.specs.WrapRule.WrapRule.{wraps}
use Rattle.es_steps.proofs.BridgeChains.{chains}
use Rattle.es_steps.proofs.BridgeLinks.{Grows, Linked, Takes, Tied, is_part_kind, grow-all, link-all, look_also, look_with, name-one, tied-grows}
use Rattle.es_steps.proofs.BridgeOpen.{PendingTied, pending-grows}
use Rattle.es_steps.proofs.BridgePowers.{EachTied, each-both, powers}
use Rattle.es_steps.proofs.BridgeRows.{Crossed, identifier-tied, logical, look-both, names-both, nullish}
use Rattle.es_steps.proofs.BridgeTrees.{map-both}

-- SPOTS

abbrev pub is_at_node : Spot → Bool
is_at_node (at_node t) = true
is_at_node _ = false

-- LEDGERS

also-both : (xs ys : List Text) (f : Text → Bool) (y : Text) → also_all ys (also_all xs f) y ≡ also_all (xs ++ ys) f y
also-both [] ys f y = refl
also-both (x ∷ xs) ys f y = also-both xs ys _ y

or-true : (a : Bool) → (a || true) ≡ true
or-true true = refl
or-true false = refl

or-assoc : (a b c : Bool) → ((a || b) || c) ≡ (a || (b || c))
or-assoc true b c = refl
or-assoc false b c = refl

bound-one : (b : Bound) (s : ℕ) → b.symbol ≡ Some s → (o : Option ℕ) (c : Bool) → is_some (if c then b.symbol else o) ≡ (is_some o || c)
bound-one b s e o true = ap is_some e ∙ sym (or-true (is_some o))
bound-one b s e o false = sym (or-false (is_some o))

bound-all : (bs : List Bound) (w : Whole) (look : Text → Option ℕ) → Takes w bs → (x : Text) → is_some (look_with bs look x) ≡ (is_some (look x) || is_among (names_among bs) x)
bound-all [] w look h x = sym (or-false (is_some (look x)))
bound-all (b ∷ bs) w look h x =
    bound-all bs (with_made (b ∷ []) w) (look_also b look) h.1 x
    ∙ (ap (λ c. c || is_among (names_among bs) x) (bound-one b w.free_symbol h.0.next.symbol (look x) (bytes_eq b.name x)) ∙ or-assoc (is_some (look x)) (bytes_eq b.name x) (is_among (names_among bs) x))

-- the declarators of temporaries
vars-tied : (bs : List Bound) (w : Whole) (look : Text → Option ℕ) → Takes w bs → EachTied (with_made bs w).in_use (look_with bs look) (map declarator bs)
vars-tied [] w look h = tt
vars-tied (b ∷ bs) w look h =
    let one = with_made (b ∷ []) w in
    let name = name-one w look (λ x. true) (λ x. true) b h.0.base h.0.next in
    let grown = tied-grows one.in_use (look_also b look) (with_made bs one).in_use (look_with bs (look_also b look)) (grow-all bs one (look_also b look) h.1) true (identifier b) (identifier-tied one.in_use (look_also b look) b name.0 name.1) in
    ((refl, tt, (grown, (tt, tt))), vars-tied bs one (look_also b look) h.1)

-- the rules of the rows that these options ask for, with the wrap rule for others
abbrev pub rule_of : EnvOptions → EnvOptions → Site → Ledger → Spot → Ledger → Spot → Type 0
rule_of v o = either_rule Writing (either_rule (WrapRule v) (rows_under o))

-- nothing but core nodes around
abbrev pub AboveFits : List Ancestor → Type 0
AboveFits [] = Unit {0}
AboveFits (a ∷ up) = (is_core_kind a.kind ≡ true) × AboveFits up

module _ (p : Tree) where
  -- the symbol of a name: that of the program's scope, or that of a made name
  abbrev pub look_of : Whole → Text → Option ℕ
  look_of w = look_with w.made (symbol_in (symbols_of p) 0)

  abbrev pub used_by_name : Whole → Text → Bool
  used_by_name w = also_all (names_among w.made) (is_among (names_of p))

  pub record WholeTied (w : Whole) : Type 0 where
    pub linked : Linked w (look_of w) (used_by_name w) (is_steady p)
    pub bound : (x : Text) → (declares (declared_of p) x || is_among (names_among w.made) x) ≡ is_some (look_of w x)

  pub whole-more : (bs : List Bound) (w : Whole) → Takes w bs → WholeTied w → WholeTied (with_made bs w)
  whole-more bs w h k =
      let base : Text → Option ℕ = symbol_in (symbols_of p) 0 in
      let look-path : look_with bs (look_of w) ≡ look_of (with_made bs w) = λ i y. look-both w.made bs base y i in
      let use-path : also_all (names_among bs) (used_by_name w) ≡ used_by_name (with_made bs w) = λ i y. (also-both (names_among w.made) (names_among bs) (is_among (names_of p)) y ∙ ap (λ xs. also_all xs (is_among (names_of p)) y) (sym (names-both w.made bs))) i in
      record {
        linked = subst (λ (f : Text → Bool). Linked (with_made bs w) (look_of (with_made bs w)) f (is_steady p)) use-path (subst (λ (f : Text → Option ℕ). Linked (with_made bs w) f (also_all (names_among bs) (used_by_name w)) (is_steady p)) look-path (link-all bs w (look_of w) (used_by_name w) (is_steady p) h k.linked));
        bound = λ x.
            ap (λ xs. declares (declared_of p) x || is_among xs x) (names-both w.made bs) ∙ (ap (λ c. declares (declared_of p) x || c) (among-append (names_among w.made) (names_among bs) x)
            ∙ (sym (or-assoc (declares (declared_of p) x) (is_among (names_among w.made) x) (is_among (names_among bs) x)) ∙ (ap (λ c. c || is_among (names_among bs) x) (k.bound x)
            ∙ (sym (bound-all bs w (look_of w) h x) ∙ ap is_some (look-both w.made bs base x)))));
      }

  abbrev pub used_in : Ledger → Text → Bool
  used_in (ledger w q x a) = w.in_use

  abbrev pub look_in : Ledger → Text → Option ℕ
  look_in (ledger w q x a) = look_of w

  abbrev pub LedgerTied : Ledger → Type 0
  LedgerTied (ledger w q x a) = WholeTied w × PendingTied w.in_use (look_of w) q × (x ≡ None) × (a ≡ no_additions)

  vars-bare : (bs : List Bound) → map bare (map declarator bs) ≡ map plain.declarator_node (names_among bs)
  vars-bare [] = refl
  vars-bare (b ∷ bs) = ap (λ ts. plain.declarator_node b.name ∷ ts) (vars-bare bs)

  ledger-more : (bs : List Bound) (w : Whole) (q : Pending) (x : Option Bound) (a : Additions) →
      steps.ledger (rules.with_names (names_among bs) (forgotten_whole p w)) (plain.with_vars (names_among bs) (forgotten_pending q)) ≡ forgotten_ledger p (ledger (with_made bs w) (with_vars bs q) x a)
  ledger-more bs w q x a =
      let use-path : also_all (names_among bs) (used_by_name w) ≡ used_by_name (with_made bs w) = λ i y. (also-both (names_among w.made) (names_among bs) (is_among (names_of p)) y ∙ ap (λ xs. also_all xs (is_among (names_of p)) y) (sym (names-both w.made bs))) i in
      let vars-path : map bare q.vars ++ map plain.declarator_node (names_among bs) ≡ map bare (q.vars ++ map declarator bs) = ap (λ ts. map bare q.vars ++ ts) (sym (vars-bare bs)) ∙ sym (map-both bare q.vars (map declarator bs)) in
      λ i. steps.ledger (record (forgotten_whole p w) { in_use = use-path i; made = sym (names-both w.made bs) i }) (record { vars = vars-path i; lets = map bare q.lets })

  -- SITES

  -- a place of a core program, from which `Math` is found where it has a symbol
  pub record SiteFits (n : Site) (look : Text → Option ℕ) : Type 0 where
    pub above : AboveFits n.above
    pub math : n.names.scope (codes "Math") ≡ None → look (codes "Math") ≡ None

  no-field : (k : AstType) → is_core_kind k ≡ true → same_type k PropertyDefinition ≡ false
  no-field PropertyDefinition h = absurd (cc h)
  no-field _ h = refl

  no-default : (k : AstType) → is_core_kind k ≡ true → same_type k AssignmentPattern ≡ false
  no-default AssignmentPattern h = absurd (cc h)
  no-default _ h = refl

  no-property : (k : AstType) → is_core_kind k ≡ true → same_type k PatternProperty ≡ false
  no-property PatternProperty h = absurd (cc h)
  no-property _ h = refl

  pub no-slot : (up : List Ancestor) → AboveFits up → is_slot up ≡ false
  no-slot [] h = refl
  no-slot (a ∷ up) h = rw (no-field a.kind h.0, no-default a.kind h.0, no-property a.kind h.0) refl

  -- in a core node other than a program names find what they find around it
  same-scope : (k : AstType) → is_part_kind k ≡ true → (n : Site) (l : Label) (fs : OpenFields) (i : ℕ) → (site_in n k l fs i).names.scope (codes "Math") ≡ n.names.scope (codes "Math")
  same-scope Program h n l fs i = absurd (cc h)
  same-scope BlockStatement h n l fs i = absurd (cc h)
  same-scope StaticBlock h n l fs i = absurd (cc h)
  same-scope FunctionDeclaration h n l fs i = absurd (cc h)
  same-scope FunctionExpression h n l fs i = absurd (cc h)
  same-scope FunctionBody h n l fs i = absurd (cc h)
  same-scope ArrowFunctionExpression h n l fs i = absurd (cc h)
  same-scope ClassDeclaration h n l fs i = absurd (cc h)
  same-scope ClassExpression h n l fs i = absurd (cc h)
  same-scope ForStatement h n l fs i = absurd (cc h)
  same-scope ForInStatement h n l fs i = absurd (cc h)
  same-scope ForOfStatement h n l fs i = absurd (cc h)
  same-scope SwitchStatement h n l fs i = absurd (cc h)
  same-scope CatchClause h n l fs i = absurd (cc h)
  same-scope _ h n l fs i = refl

  part-core : (k : AstType) → is_part_kind k ≡ true → is_core_kind k ≡ true
  part-core Program h = refl
  part-core _ h = h

  pub site-below : (n : Site) (look : Text → Option ℕ) (k : AstType) (l : Label) (fs : OpenFields) → is_part_kind k ≡ true → SiteFits n look → (i : ℕ) → SiteFits (site_in n k l fs i) look
  site-below n look k l fs h f i = record { above = (part-core k h, f.above); math = λ e. f.math (sym (same-scope k h n l fs i) ∙ e) }

  -- RULES AT NODES

  pub record Acted (n : Site) (s s' : Ledger) (a : Bool) (t u : Tree) (Plain : Need → steps.Ledger → steps.Spot → steps.Ledger → steps.Spot → Type 0) : Type 0 where
    pub rule : Plain n.need (forgotten_ledger p s) (steps.at_node (bare t)) (forgotten_ledger p s') (steps.at_node (bare u))
    pub after : LedgerTied s'
    pub tied : Tied (used_in s') (look_in s') a u
    pub grow : Grows (used_in s) (look_in s) (used_in s') (look_in s')

  grow-made : (bs : List Bound) (w : Whole) → Takes w bs → Grows w.in_use (look_of w) (with_made bs w).in_use (look_of (with_made bs w))
  grow-made bs w h x e = let g = grow-all bs w (look_of w) h x e in (g.0, sym (look-both w.made bs (symbol_in (symbols_of p) 0) x) ∙ g.1)

  made-tied : (bs : List Bound) (w : Whole) (a : Bool) (t : Tree) → Tied (with_made bs w).in_use (look_with bs (look_of w)) a t → Tied (with_made bs w).in_use (look_of (with_made bs w)) a t
  made-tied bs w a t h = subst (λ (f : Text → Option ℕ). Tied (with_made bs w).in_use f a t) (λ i y. look-both w.made bs (symbol_in (symbols_of p) 0) y i) h

  made-each : (bs : List Bound) (w : Whole) (ts : List Tree) → EachTied (with_made bs w).in_use (look_with bs (look_of w)) ts → EachTied (with_made bs w).in_use (look_of (with_made bs w)) ts
  made-each bs w ts h = subst (λ (f : Text → Option ℕ). EachTied (with_made bs w).in_use f ts) (λ i y. look-both w.made bs (symbol_in (symbols_of p) 0) y i) h

  -- a row at a node, by its own law
  replaced : (R : Site → Whole → List Bound → Tree → Tree → Type 0) (Plain : steps.Whole → List Text → Need → Tree → Tree → Type 0) (n : Site) →
      ((w : Whole) → WholeTied w → SiteFits n (look_of w) → (a : Bool) (bs : List Bound) (t u : Tree) → R n w bs t u → Tied w.in_use (look_of w) a t → Crossed w (look_of w) a (λ xs. Plain (forgotten_whole p w) xs n.need) bs t u) →
      (s s' : Ledger) (a : Bool) {t u : Tree} → RowRule R n s (at_node t) s' (at_node u) → LedgerTied s → SiteFits n (look_in s) → Tied (used_in s) (look_in s) a t → Acted n s s' a t u (rules.Replacing Plain)
  replaced R Plain n law s s' a {t} {u} (replaces {w = w} {p = q} {x = x} {a = b} bs r) h f d =
      let c = law w h.0 f a bs t u r.rule d in
      let grow = grow-made bs w c.takes in
      record {
        rule = subst (λ v. rules.Replacing Plain n.need (forgotten_ledger p (ledger w q x b)) (steps.at_node (bare t)) v (steps.at_node (bare u))) (ledger-more bs w q x b) (plain_replaces (names_among bs) c.rule);
        after = (
          whole-more bs w c.takes h.0,
          (
            each-both (with_made bs w).in_use (look_of (with_made bs w)) q.vars (map declarator bs) (pending-grows w.in_use (look_of w) (with_made bs w).in_use (look_of (with_made bs w)) grow q h.1).0 (made-each bs w (map declarator bs) (vars-tied bs w (look_of w) c.takes)),
            (pending-grows w.in_use (look_of w) (with_made bs w).in_use (look_of (with_made bs w)) grow q h.1).1,
          ),
          h.2,
          h.3,
        );
        tied = made-tied bs w a u c.tied;
        grow = grow;
      }

  row-logical : (n : Site) (w : Whole) → WholeTied w → SiteFits n (look_of w) → (a : Bool) (bs : List Bound) (t u : Tree) → LogicalAssignmentRule n w bs t u → Tied w.in_use (look_of w) a t → Crossed w (look_of w) a (λ xs. rules.logical_assignment_rule (forgotten_whole p w) xs n.need) bs t u
  row-logical n w h f a bs t u r d = logical w (look_of w) (used_by_name w) (is_steady p) h.linked a n n.need r d

  row-nullish : (n : Site) (w : Whole) → WholeTied w → SiteFits n (look_of w) → (a : Bool) (bs : List Bound) (t u : Tree) → NullishCoalescingRule n w bs t u → Tied w.in_use (look_of w) a t → Crossed w (look_of w) a (λ xs. rules.nullish_coalescing_rule (forgotten_whole p w) xs n.need) bs t u
  row-nullish n w h f a bs t u r d = nullish w (look_of w) (used_by_name w) (is_steady p) h.linked a n n.need r d

  row-chain : (no_all : Bool) (n : Site) (w : Whole) → WholeTied w → SiteFits n (look_of w) → (a : Bool) (bs : List Bound) (t u : Tree) → OptionalChainingRule no_all n w bs t u → Tied w.in_use (look_of w) a t → Crossed w (look_of w) a (λ xs. rules.optional_chaining_rule no_all (forgotten_whole p w) xs n.need) bs t u
  row-chain no_all n w h f a bs t u r d = chains no_all w (look_of w) (used_by_name w) (is_steady p) (rules.is_bound_in (forgotten_whole p w)) h.linked h.bound a n r d

  row-power : (n : Site) (w : Whole) → WholeTied w → SiteFits n (look_of w) → (a : Bool) (bs : List Bound) (t u : Tree) → ExponentiationRule n w bs t u → Tied w.in_use (look_of w) a t → Crossed w (look_of w) a (λ xs. rules.exponentiation_rule (forgotten_whole p w) xs n.need) bs t u
  row-power n w h f a bs t u r d = powers w (look_of w) (forgotten_whole p w) h.linked h.bound n f.math a n.need r d

  -- a rule where it is on
  on-row : (c : Bool) (R : Site → Ledger → Spot → Ledger → Spot → Type 0) (Plain : Need → steps.Ledger → steps.Spot → steps.Ledger → steps.Spot → Type 0) (n : Site) (s s' : Ledger) (a : Bool) (t u : Tree) →
      (R n s (at_node t) s' (at_node u) → Acted n s s' a t u Plain) → where_on c R n s (at_node t) s' (at_node u) → Acted n s s' a t u (rules.where_on c Plain)
  on-row true R Plain n s s' a t u law r = law r
  on-row false R Plain n s s' a t u law r = absurd r

  other-rule : (n : Site) (s s' : Ledger) (a : Bool) (t u : Tree) (P Q : Need → steps.Ledger → steps.Spot → steps.Ledger → steps.Spot → Type 0) → Acted n s s' a t u Q → Acted n s s' a t u (rules.either_rule P Q)
  other-rule n s s' a t u P Q h = record { rule = inr h.rule; after = h.after; tied = h.tied; grow = h.grow }

  this-rule : (n : Site) (s s' : Ledger) (a : Bool) (t u : Tree) (P Q : Need → steps.Ledger → steps.Spot → steps.Ledger → steps.Spot → Type 0) → Acted n s s' a t u P → Acted n s s' a t u (rules.either_rule P Q)
  this-rule n s s' a t u P Q h = record { rule = inl h.rule; after = h.after; tied = h.tied; grow = h.grow }

  module _ (v o : EnvOptions) where
    abbrev no_all : Bool
    no_all = o.assumptions.no_document_all

    -- no rule writes at a node, and none is wrapped
    pub writing-spot : {n : Site} {s s' : Ledger} {x y : Spot} → Writing n s x s' y → is_at_node x ≡ false
    writing-spot declarators = refl
    writing-spot all_pending = refl
    writing-spot body_declarators = refl
    writing-spot insertions = refl

    pub acted : (n : Site) (s s' : Ledger) (a : Bool) {t u : Tree} → rule_of v o n s (at_node t) s' (at_node u) → LedgerTied s → SiteFits n (look_in s) → Tied (used_in s) (look_in s) a t → Acted n s s' a t u (rules.rule_under o)
    acted n s s' a (inl r) h f d = absurd (let no : true ≡ false = writing-spot r in cc no)
    acted n s s' a (inr (inl (wraps reading expression slot holds))) h f d = absurd (let no : true ≡ false = sym slot ∙ no-slot n.above f.above in cc no)
    acted n s s' a {t} {u} (inr (inr (inl r))) h f d =
        other-rule n s s' a t u _ _ (this-rule n s s' a t u _ _ (on-row o.es2021.logical_assignment_operators (RowRule LogicalAssignmentRule) rules.OpenLogicalAssignment n s s' a t u (λ q. replaced LogicalAssignmentRule rules.logical_assignment_rule n (row-logical n) s s' a q h f d) r))
    acted n s s' a {t} {u} (inr (inr (inr (inl (inl r))))) h f d =
        other-rule n s s' a t u _ _ (other-rule n s s' a t u _ _ (this-rule n s s' a t u _ _ (this-rule n s s' a t u _ _ (on-row o.es2020.nullish_coalescing_operator (RowRule NullishCoalescingRule) rules.OpenNullishCoalescing n s s' a t u (λ q. replaced NullishCoalescingRule rules.nullish_coalescing_rule n (row-nullish n) s s' a q h f d) r))))
    acted n s s' a {t} {u} (inr (inr (inr (inl (inr r))))) h f d =
        other-rule n s s' a t u _ _ (other-rule n s s' a t u _ _ (this-rule n s s' a t u _ _ (other-rule n s s' a t u _ _ (on-row o.es2020.optional_chaining (RowRule (OptionalChainingRule no_all)) (rules.OpenOptionalChaining no_all) n s s' a t u (λ q. replaced (OptionalChainingRule no_all) (rules.optional_chaining_rule no_all) n (row-chain no_all n) s s' a q h f d) r))))
    acted n s s' a {t} {u} (inr (inr (inr (inr r)))) h f d =
        other-rule n s s' a t u _ _ (other-rule n s s' a t u _ _ (other-rule n s s' a t u _ _ (on-row o.es2016.exponentiation_operator (RowRule ExponentiationRule) rules.OpenExponentiation n s s' a t u (λ q. replaced ExponentiationRule rules.exponentiation_rule n (row-power n) s s' a q h f d) r)))
