-- What the rules write: imports stay where they are, symbols keep their names, and each identifier stood there or is new.
use Rattle.std.proofs.Common.{arith, ◌≤◌, ◌<◌, ◌+◌, ◌≡◌, ℕ, refl, sym, subst, List, [], ◌∷◌, length}
use Rattle.std.specs.Prelude.{Bool, true, false, ◌&&◌, Option, Some, None, map, codes}
use Rattle.std.specs.List.{list_all}
use Rattle.es_tree.specs.Words.{Text}
use Rattle.es_tree.specs.Tree.{Tree, node, Label, Fields, done, one, Trees, empty, ◌then◌, ◌before◌, fields}
use Rattle.es_tree.specs.declared.ast_type.AstType.TheVariants.{Identifier, ObjectPattern, PatternProperty}
use Rattle.es_semantic.specs.declared.place.Binding.TheVariants.{Class}
use Rattle.es_semantic.specs.declared.place.Role.{Role}
use Rattle.es_semantic.specs.declared.place.Role.TheVariants.{Binds}
use Rattle.es_resolution.specs.Declarations.{Bound}
use Rattle.es_steps.specs.Identifiers.{Passes, PassesIn, PassesAll}
use Rattle.es_steps.specs.Nodes.{array_node, call_node, member_node, declarator_with, identifier, word, string_node, joined_trees}
use Rattle.es_steps.specs.Open.{Pending, Additions, is_import, flanks_with, whole_list}
use Rattle.es_steps.specs.Steps.{Whole, Ledger, Site, Spot}
use Rattle.es_steps.specs.Steps.Spot.{at_node, at_beside, at_body, at_list, at_trees}
use Rattle.es_steps.specs.Rules.{with_made, calling, Writing, Replacing}
use Rattle.es_steps.specs.OptionalCatch.{CatchRule}
use Rattle.es_steps.specs.Rules.Writing.{declarators, all_pending, body_declarators, insertions}
use Rattle.es_steps.specs.Rules.Replacing.{replaces}
use Rattle.es_steps.specs.OptionalCatch.CatchRule.{catches}
use Rattle.es_steps.specs.Rules.{next_name}
use Rattle.es_steps.specs.NamespaceExports.{NamespaceRule}
use Rattle.es_steps.specs.CatchPatterns.{CatchRest}
use Rattle.es_steps.specs.ParameterPatterns.{ParameterRest, HoldsPattern, MovesParameter}
use Rattle.es_steps.specs.LoopHeads.{HeadRest, TargetHead}
use Rattle.es_steps.specs.Patterns.{let_statement}
use Rattle.es_steps.specs.NamespaceExports.NamespaceRule.{exports}
use Rattle.es_steps.specs.CatchPatterns.CatchRest.{moves}
use Rattle.es_steps.specs.ParameterPatterns.HoldsPattern.{alone, with_default}
use Rattle.es_steps.specs.ParameterPatterns.MovesParameter.{moves_one}
use Rattle.es_steps.specs.ParameterPatterns.ParameterRest.{in_declaration, in_expression, in_arrow}
use Rattle.es_steps.specs.LoopHeads.HeadRest.{lexical_head, var_head}
use Rattle.es_steps.specs.LoopHeads.TargetHead.{target_head}
use Rattle.es_steps.specs.LoopHeads.IsForEach.{for_in, for_of}
use Rattle.es_steps.specs.ObjectRest.{AreKeys, IsKey, RestOf, SplitRule, SplitsOff, TakesRest, and_declarator, declares_as, declares_rest, declares_some, helper_node, pattern_node}
use Rattle.es_steps.specs.ObjectRest.IsKey.{name_key, text_key}
use Rattle.es_steps.specs.ObjectRest.RestOf.{alone as rest_alone, beside, mapped}
use Rattle.es_steps.specs.ObjectRest.SplitRule.{splits}
use Rattle.es_steps.specs.ObjectRest.SplitsOff.{source, nested, nested_default, key}
use Rattle.es_steps.specs.ObjectRest.TakesRest.{takes_rest}
use Rattle.es_steps.specs.UsingBlocks.{BlockUsing, Constants, UsedAll, error_of, with_context, protected}
use Rattle.es_steps.specs.UsingBlocks.Constants.{ended, stays, using}
use Rattle.es_steps.specs.UsingBlocks.UsedAll.{no_more, uses}
use Rattle.es_steps.specs.UsingBlocks.BlockUsing.{of_block, of_part}
use Rattle.es_steps.specs.Arrows.{ArrowRule}
use Rattle.es_steps.specs.Arrows.ArrowRule.{by_name, by_new_name, with_body, with_expression}
use Rattle.es_steps.proofs.Arrows.{arrow-only}
use Rattle.es_steps.proofs.Catching.{catch-only}
use Rattle.es_steps.proofs.CatchRests.{catch-rest-only}
use Rattle.es_steps.proofs.Fronts.{front-of, front-pass, front-some}
use Rattle.es_steps.proofs.Heads.{head-only, target-only}
use Rattle.es_steps.proofs.Lists.{goes_on, written-first}
use Rattle.es_steps.proofs.Namespaces.{exports-nodes}
use Rattle.es_steps.proofs.Numbered.{Numbered, numbered-old, numbered-new}
use Rattle.es_steps.proofs.Opened.{written-none}
use Rattle.es_steps.proofs.Parameters.{parameter-only}
use Rattle.es_steps.proofs.Passing.{passes-joined, joined-passes, passes-vars}
use Rattle.es_steps.proofs.RuleLaws.{AtNodes, replaces-nodes, writes-lists}
use Rattle.es_steps.proofs.Splits.{split-only}
use Rattle.es_steps.proofs.Taken.{at-least, whole_in, Writes, Allows, LedgerPasses}
use Rattle.es_steps.proofs.TakesRest.{rest-only, texts-are-keys}
use Rattle.es_steps.proofs.Wraps.{block-only}

-- NEW NAMES

pub longer : (m k : ℕ) → m ≤ m + k
longer m k = omega arith

pub first-of : (a b : Bool) → (a && b) ≡ true → a ≡ true
first-of true b e = refl
first-of false b e = e

second-of : (a b : Bool) → (a && b) ≡ true → b ≡ true
second-of true b e = e
second-of false b e = absurd (cc e)

pub new-pass : (q : Text → Option ℕ → Bool) (w : Whole) (bs : List Bound) → Numbered w.free_symbol bs → Allows q w (with_made bs w) → list_all (λ b. q b.name b.symbol) bs ≡ true
new-pass q w bs h a = numbered-new q w.called (calling bs w.called) w.free_symbol bs h (λ m e. refl) a.new

-- the name that a rule takes
pub one-new : (q : Text → Option ℕ → Bool) (w : Whole) (x : Text) → Allows q w (with_made (next_name w x ∷ []) w) → Passes q (identifier (next_name w x))
one-new q w x a = (first-of (q x (Some w.free_symbol)) true (new-pass q w (next_name w x ∷ []) (refl, tt) a), tt)

-- RULES OF NODES ALONE

pub record WritesNodes (R : Site → Ledger → Spot → Ledger → Spot → Type 0) : Type 0 where
  pub only : (n : Site) (s s' : Ledger) (x y : Spot) → R n s x s' y → AtNodes x y
  pub imports : (n : Site) (s s' : Ledger) (t u : Tree) → R n s (at_node t) s' (at_node u) → is_import u ≡ is_import t
  pub no_names : (n : Site) (s s' : Ledger) (l : Label) (fs : Fields) (u : Tree) → n.role ≡ Binds Class → R n s (at_node (node Identifier l fs)) s' (at_node u) → ⊥
  pub freer : (n : Site) (s s' : Ledger) (t u : Tree) → R n s (at_node t) s' (at_node u) → (whole_in s).free_symbol ≤ (whole_in s').free_symbol
  pub same_called : (n : Site) (s s' : Ledger) (t u : Tree) → R n s (at_node t) s' (at_node u) → (m : ℕ) → m < (whole_in s).free_symbol → (whole_in s').called m ≡ (whole_in s).called m
  pub names : (q : Text → Option ℕ → Bool) (n : Site) (s s' : Ledger) (t u : Tree) → Allows q (whole_in s) (whole_in s') → LedgerPasses q s → R n s (at_node t) s' (at_node u) → Passes q t → Passes q u × LedgerPasses q s'

pub writes-nodes : {R : Site → Ledger → Spot → Ledger → Spot → Type 0} → WritesNodes R → Writes R
writes-nodes {R} h = record {
  imports = h.imports;
  flanks_none = λ n s s' t u bs cs g. absurd (h.only n s s' (at_node t) (at_beside bs u cs) g);
  no_names = λ n s s' l fs y e g. none n s s' l fs y e g;
  freer = λ n s s' x y g. grows n s s' x y g;
  same_called = λ n s s' x y g m e. called n s s' x y g m e;
  names = h.names;
  names_beside = λ q n s s' t u bs cs a b g k. absurd (h.only n s s' (at_node t) (at_beside bs u cs) g);
  names_in_lists = λ q n s s' p p' x y a b ts us c d g k. absurd (h.only n s s' (at_list p x a ts) (at_list p' y b us) g);
}
  where
    none : (n : Site) (s s' : Ledger) (l : Label) (fs : Fields) (y : Spot) → n.role ≡ Binds Class → R n s (at_node (node Identifier l fs)) s' y → ⊥
    none n s s' l fs (at_node u) e g = h.no_names n s s' l fs u e g
    none n s s' l fs (at_beside bs t cs) e g = h.only n s s' (at_node (node Identifier l fs)) (at_beside bs t cs) g
    none n s s' l fs (at_list p x a ts) e g = h.only n s s' (at_node (node Identifier l fs)) (at_list p x a ts) g
    none n s s' l fs (at_body p t) e g = h.only n s s' (at_node (node Identifier l fs)) (at_body p t) g
    none n s s' l fs (at_trees ts) e g = h.only n s s' (at_node (node Identifier l fs)) (at_trees ts) g

    by-nodes : (C : Spot → Spot → Type 0) (n : Site) (s s' : Ledger) (x y : Spot) → ((t u : Tree) → R n s (at_node t) s' (at_node u) → C (at_node t) (at_node u)) → R n s x s' y → AtNodes x y → C x y
    by-nodes C n s s' (at_node t) (at_node u) f g k = f t u g
    by-nodes C n s s' (at_node t) (at_beside bs u cs) f g k = absurd k
    by-nodes C n s s' (at_node t) (at_list p x a ts) f g k = absurd k
    by-nodes C n s s' (at_node t) (at_body p u) f g k = absurd k
    by-nodes C n s s' (at_node t) (at_trees ts) f g k = absurd k
    by-nodes C n s s' (at_beside bs t cs) y f g k = absurd k
    by-nodes C n s s' (at_list p x a ts) y f g k = absurd k
    by-nodes C n s s' (at_body p t) y f g k = absurd k
    by-nodes C n s s' (at_trees ts) y f g k = absurd k

    grows : (n : Site) (s s' : Ledger) (x y : Spot) → R n s x s' y → (whole_in s).free_symbol ≤ (whole_in s').free_symbol
    grows n s s' x y g = by-nodes (λ x y. (whole_in s).free_symbol ≤ (whole_in s').free_symbol) n s s' x y (λ t u d. h.freer n s s' t u d) g (h.only n s s' x y g)

    called : (n : Site) (s s' : Ledger) (x y : Spot) → R n s x s' y → (m : ℕ) → m < (whole_in s).free_symbol → (whole_in s').called m ≡ (whole_in s).called m
    called n s s' x y g = by-nodes (λ x y. (m : ℕ) → m < (whole_in s).free_symbol → (whole_in s').called m ≡ (whole_in s).called m) n s s' x y (λ t u d. h.same_called n s s' t u d) g (h.only n s s' x y g)

-- what a rule of nodes with temporaries owes
pub record WritesRow (R : Site → Whole → List Bound → Tree → Tree → Type 0) : Type 0 where
  pub imports : (n : Site) (w : Whole) (bs : List Bound) (t u : Tree) → R n w bs t u → is_import u ≡ is_import t
  pub no_names : (n : Site) (w : Whole) (bs : List Bound) (l : Label) (fs : Fields) (u : Tree) → n.role ≡ Binds Class → R n w bs (node Identifier l fs) u → ⊥
  pub numbered : (n : Site) (w : Whole) (bs : List Bound) (t u : Tree) → R n w bs t u → Numbered w.free_symbol bs
  pub names : (q : Text → Option ℕ → Bool) (n : Site) (w : Whole) (bs : List Bound) (t u : Tree) → R n w bs t u → ((x : Text) → q x None ≡ true) → list_all (λ b. q b.name b.symbol) bs ≡ true → Passes q t → Passes q u

pub row-writes : {R : Site → Whole → List Bound → Tree → Tree → Type 0} → WritesRow R → Writes (Replacing R)
row-writes {R} h = writes-nodes {R = Replacing R} (record { only = replaces-nodes {R = R}; imports = imports; no_names = none; freer = grows; same_called = called; names = names })
  where
    imports : (n : Site) (s s' : Ledger) (t u : Tree) → Replacing R n s (at_node t) s' (at_node u) → is_import u ≡ is_import t
    imports n s s' t u (replaces {w = w} bs g) = h.imports n w bs t u g

    none : (n : Site) (s s' : Ledger) (l : Label) (fs : Fields) (u : Tree) → n.role ≡ Binds Class → Replacing R n s (at_node (node Identifier l fs)) s' (at_node u) → ⊥
    none n s s' l fs u e (replaces {w = w} bs g) = h.no_names n w bs l fs u e g

    grows : (n : Site) (s s' : Ledger) (t u : Tree) → Replacing R n s (at_node t) s' (at_node u) → (whole_in s).free_symbol ≤ (whole_in s').free_symbol
    grows n s s' t u (replaces {w = w} bs g) = longer w.free_symbol (length bs)

    called : (n : Site) (s s' : Ledger) (t u : Tree) → Replacing R n s (at_node t) s' (at_node u) → (m : ℕ) → m < (whole_in s).free_symbol → (whole_in s').called m ≡ (whole_in s).called m
    called n s s' t u (replaces {w = w} bs g) = numbered-old w.called w.free_symbol bs (h.numbered n w bs t u g)

    names : (q : Text → Option ℕ → Bool) (n : Site) (s s' : Ledger) (t u : Tree) → Allows q (whole_in s) (whole_in s') → LedgerPasses q s → Replacing R n s (at_node t) s' (at_node u) → Passes q t → Passes q u × LedgerPasses q s'
    names q n s s' t u a b (replaces {w = w} {p = p} bs g) k =
        let new = new-pass q w bs (h.numbered n w bs t u g) a in
        (h.names q n w bs t u g a.words new k, record { pending = passes-vars q bs p new b.pending; this = b.this; top = b.top })

-- WRITING

pub writing-writes : Writes Writing
writing-writes = record {
  imports = λ n s s' t u h. absurd (writes-lists h);
  flanks_none = λ n s s' t u bs cs h. absurd (writes-lists h);
  no_names = λ n s s' l fs y e h. absurd (writes-lists h);
  freer = λ n s s' x y h. subst (λ (z : Ledger). (whole_in s).free_symbol ≤ (whole_in z).free_symbol) (stays-same n s s' x y h) (at-least (whole_in s).free_symbol);
  same_called = λ n s s' x y h m e. subst (λ (z : Ledger). (whole_in z).called m ≡ (whole_in s).called m) (stays-same n s s' x y h) refl;
  names = λ q n s s' t u a b h k. absurd (writes-lists h);
  names_beside = λ q n s s' t u bs cs a b h k. absurd (writes-lists h);
  names_in_lists = lists;
}
  where
    stays-same : (n : Site) (s s' : Ledger) (x y : Spot) → Writing n s x s' y → s ≡ s'
    stays-same n s s' x y declarators = refl
    stays-same n s s' x y all_pending = refl
    stays-same n s s' x y body_declarators = refl
    stays-same n s s' x y insertions = refl

    lists : (q : Text → Option ℕ → Bool) (n : Site) (s s' : Ledger) (p p' : Pending) (x y : Option Bound) (a b : Additions) (ts us : Trees) → Allows q (whole_in s) (whole_in s') → LedgerPasses q s → Writing n s (at_list p x a ts) s' (at_list p' y b us) → PassesAll q (whole_list p x a ts) → PassesAll q (whole_list p' y b us) × LedgerPasses q s'
    lists q n s s' p p' x y a b ts us c d declarators k = (subst (λ (z : Trees). PassesAll q z) (written-first p x a ts) k, d)
    lists q n s s' p p' x y a b ts us c d all_pending k = (subst (λ (z : Trees). PassesAll q z) (sym (written-none (whole_list p x a ts))) k, d)

-- OPTIONAL CATCH

pub catch-writes : Writes CatchRule
catch-writes = writes-nodes {R = CatchRule} (record { only = catch-only; imports = imports; no_names = none; freer = grows; same_called = called; names = names })
  where
    imports : (n : Site) (s s' : Ledger) (t u : Tree) → CatchRule n s (at_node t) s' (at_node u) → is_import u ≡ is_import t
    imports n s s' t u (catches f) = refl

    none : (n : Site) (s s' : Ledger) (l : Label) (fs : Fields) (u : Tree) → n.role ≡ Binds Class → CatchRule n s (at_node (node Identifier l fs)) s' (at_node u) → ⊥
    none n s s' l fs u e h = elim h [ ]

    grows : (n : Site) (s s' : Ledger) (t u : Tree) → CatchRule n s (at_node t) s' (at_node u) → (whole_in s).free_symbol ≤ (whole_in s').free_symbol
    grows n s s' t u (catches {w = w} {x = x} f) = longer w.free_symbol 1

    called : (n : Site) (s s' : Ledger) (t u : Tree) → CatchRule n s (at_node t) s' (at_node u) → (m : ℕ) → m < (whole_in s).free_symbol → (whole_in s').called m ≡ (whole_in s).called m
    called n s s' t u (catches {w = w} {x = x} f) = numbered-old w.called w.free_symbol (next_name w x ∷ []) (refl, tt)

    names : (q : Text → Option ℕ → Bool) (n : Site) (s s' : Ledger) (t u : Tree) → Allows q (whole_in s) (whole_in s') → LedgerPasses q s → CatchRule n s (at_node t) s' (at_node u) → Passes q t → Passes q u × LedgerPasses q s'
    names q n s s' t u a b (catches {w = w} {x = x} f) k = ((tt, (one-new q w x a, (k.1.1.0, tt))), record { pending = b.pending; this = b.this; top = b.top })

-- PATTERNS

let-pass : (q : Text → Option ℕ → Bool) (p : Tree) (x : Bound) → Passes q p → Passes q (identifier x) → Passes q (let_statement p x)
let-pass q p x h k = (tt, (((tt, (h, (k, tt))), tt), tt))

pub catch-rest-writes : Writes CatchRest
catch-rest-writes = writes-nodes {R = CatchRest} (record { only = catch-rest-only; imports = imports; no_names = none; freer = grows; same_called = called; names = names })
  where
    imports : (n : Site) (s s' : Ledger) (t u : Tree) → CatchRest n s (at_node t) s' (at_node u) → is_import u ≡ is_import t
    imports n s s' t u (moves f g) = refl

    none : (n : Site) (s s' : Ledger) (l : Label) (fs : Fields) (u : Tree) → n.role ≡ Binds Class → CatchRest n s (at_node (node Identifier l fs)) s' (at_node u) → ⊥
    none n s s' l fs u e h = elim h [ ]

    grows : (n : Site) (s s' : Ledger) (t u : Tree) → CatchRest n s (at_node t) s' (at_node u) → (whole_in s).free_symbol ≤ (whole_in s').free_symbol
    grows n s s' t u (moves {w = w} {x = x} f g) = longer w.free_symbol 1

    called : (n : Site) (s s' : Ledger) (t u : Tree) → CatchRest n s (at_node t) s' (at_node u) → (m : ℕ) → m < (whole_in s).free_symbol → (whole_in s').called m ≡ (whole_in s).called m
    called n s s' t u (moves {w = w} {x = x} f g) = numbered-old w.called w.free_symbol (next_name w x ∷ []) (refl, tt)

    names : (q : Text → Option ℕ → Bool) (n : Site) (s s' : Ledger) (t u : Tree) → Allows q (whole_in s) (whole_in s') → LedgerPasses q s → CatchRest n s (at_node t) s' (at_node u) → Passes q t → Passes q u × LedgerPasses q s'
    names q n s s' t u a b (moves {w = w} {x = x} f g) k = let it = one-new q w x a in ((tt, (it, ((tt, ((let-pass q _ (next_name w x) k.1.0 it, (k.1.1.0, tt)), tt)), tt))), record { pending = b.pending; this = b.this; top = b.top })

-- the parameters and the body
parameters-pass : (q : Text → Option ℕ → Bool) (w : Whole) (x : Text) (ps qs ds ts us : Trees) → MovesParameter w x ps qs ds ts us → Passes q (identifier (next_name w x)) → PassesAll q ps → PassesAll q ts → PassesAll q qs × PassesAll q us
parameters-pass q w x ps qs ds ts us (moves_one a c ds2 es ts2 l fs t u rest moved holds may) it h k =
    let parts = joined-passes q a (t before c) h in
    let body = joined-passes q es ts2 k in
    let split = held (node ObjectPattern l fs) t u holds parts.1.0 in
    (passes-joined q a (u before c) parts.0 (split.1, parts.1.1), passes-joined q es (let_statement (node ObjectPattern l fs) (next_name w x) before ts2) body.0 (let-pass q (node ObjectPattern l fs) (next_name w x) split.0 it, body.1))
  where
    held : (p t u : Tree) → HoldsPattern (next_name w x) p t u → Passes q t → Passes q p × Passes q u
    held p t u alone d = (d, it)
    held p t u (with_default silent) d = (d.1.0, (tt, (it, (d.1.1.0, tt))))

pub parameter-writes : Writes ParameterRest
parameter-writes = writes-nodes {R = ParameterRest} (record { only = parameter-only; imports = imports; no_names = none; freer = grows; same_called = called; names = names })
  where
    imports : (n : Site) (s s' : Ledger) (t u : Tree) → ParameterRest n s (at_node t) s' (at_node u) → is_import u ≡ is_import t
    imports n s s' t u (in_declaration f g h) = refl
    imports n s s' t u (in_expression f g h) = refl
    imports n s s' t u (in_arrow f g) = refl

    none : (n : Site) (s s' : Ledger) (l : Label) (fs : Fields) (u : Tree) → n.role ≡ Binds Class → ParameterRest n s (at_node (node Identifier l fs)) s' (at_node u) → ⊥
    none n s s' l fs u e h = elim h [ ]

    grows : (n : Site) (s s' : Ledger) (t u : Tree) → ParameterRest n s (at_node t) s' (at_node u) → (whole_in s).free_symbol ≤ (whole_in s').free_symbol
    grows n s s' t u (in_declaration {w = w} {x = x} f g h) = longer w.free_symbol 1
    grows n s s' t u (in_expression {w = w} {x = x} f g h) = longer w.free_symbol 1
    grows n s s' t u (in_arrow {w = w} {x = x} f g) = longer w.free_symbol 1

    called : (n : Site) (s s' : Ledger) (t u : Tree) → ParameterRest n s (at_node t) s' (at_node u) → (m : ℕ) → m < (whole_in s).free_symbol → (whole_in s').called m ≡ (whole_in s).called m
    called n s s' t u (in_declaration {w = w} {x = x} f g h) = numbered-old w.called w.free_symbol (next_name w x ∷ []) (refl, tt)
    called n s s' t u (in_expression {w = w} {x = x} f g h) = numbered-old w.called w.free_symbol (next_name w x ∷ []) (refl, tt)
    called n s s' t u (in_arrow {w = w} {x = x} f g) = numbered-old w.called w.free_symbol (next_name w x ∷ []) (refl, tt)

    names : (q : Text → Option ℕ → Bool) (n : Site) (s s' : Ledger) (t u : Tree) → Allows q (whole_in s) (whole_in s') → LedgerPasses q s → ParameterRest n s (at_node t) s' (at_node u) → Passes q t → Passes q u × LedgerPasses q s'
    names q n s s' t u a b (in_declaration {w = w} {ps = ps} {qs = qs} {ds = ds} {ts = ts} {us = us} {x = x} f g h) k = let z = parameters-pass q w x ps qs ds ts us h (one-new q w x a) k.1.1.0 k.1.1.1.0.1.1.0 in ((tt, (k.1.0, (z.0, ((tt, (k.1.1.1.0.1.0, (z.1, tt))), tt)))), record { pending = b.pending; this = b.this; top = b.top })
    names q n s s' t u a b (in_expression {w = w} {ps = ps} {qs = qs} {ds = ds} {ts = ts} {us = us} {x = x} f g h) k = let z = parameters-pass q w x ps qs ds ts us h (one-new q w x a) k.1.1.0 k.1.1.1.0.1.1.0 in ((tt, (k.1.0, (z.0, ((tt, (k.1.1.1.0.1.0, (z.1, tt))), tt)))), record { pending = b.pending; this = b.this; top = b.top })
    names q n s s' t u a b (in_arrow {w = w} {ps = ps} {qs = qs} {ds = ds} {ts = ts} {us = us} {x = x} f h) k = let z = parameters-pass q w x ps qs ds ts us h (one-new q w x a) k.1.0 k.1.1.0.1.1.0 in ((tt, (z.0, ((tt, (k.1.1.0.1.0, (z.1, tt))), tt))), record { pending = b.pending; this = b.this; top = b.top })

pub head-writes : Writes HeadRest
head-writes = writes-nodes {R = HeadRest} (record { only = head-only; imports = imports; no_names = none; freer = grows; same_called = called; names = names })
  where
    imports : (n : Site) (s s' : Ledger) (t u : Tree) → HeadRest n s (at_node t) s' (at_node u) → is_import u ≡ is_import t
    imports n s s' t u (lexical_head a b c d e f g) = refl
    imports n s s' t u (var_head a b c d e f g) = refl

    none : (n : Site) (s s' : Ledger) (l : Label) (fs : Fields) (u : Tree) → n.role ≡ Binds Class → HeadRest n s (at_node (node Identifier l fs)) s' (at_node u) → ⊥
    none n s s' l fs u e (lexical_head a b c d f g h) = elim a [ ]
    none n s s' l fs u e (var_head a b c d f g h) = elim a [ ]

    grows : (n : Site) (s s' : Ledger) (t u : Tree) → HeadRest n s (at_node t) s' (at_node u) → (whole_in s).free_symbol ≤ (whole_in s').free_symbol
    grows n s s' t u (lexical_head {w = w} {x = x} a b c d e f g) = longer w.free_symbol 1
    grows n s s' t u (var_head {w = w} {x = x} a b c d e f g) = longer w.free_symbol 1

    called : (n : Site) (s s' : Ledger) (t u : Tree) → HeadRest n s (at_node t) s' (at_node u) → (m : ℕ) → m < (whole_in s).free_symbol → (whole_in s').called m ≡ (whole_in s).called m
    called n s s' t u (lexical_head {w = w} {x = x} a b c d e f g) = numbered-old w.called w.free_symbol (next_name w x ∷ []) (refl, tt)
    called n s s' t u (var_head {w = w} {x = x} a b c d e f g) = numbered-old w.called w.free_symbol (next_name w x ∷ []) (refl, tt)

    names : (q : Text → Option ℕ → Bool) (n : Site) (s s' : Ledger) (t u : Tree) → Allows q (whole_in s) (whole_in s') → LedgerPasses q s → HeadRest n s (at_node t) s' (at_node u) → Passes q t → Passes q u × LedgerPasses q s'
    names q n s s' t u a b (lexical_head {w = w} {x = x} for_in h1 h2 h3 h4 h5 h6) k = let it = one-new q w x a in ((tt, ((tt, (((tt, (it, (tt, tt))), tt), tt)), (k.1.1.0, ((tt, (((tt, (((tt, (k.1.0.1.0.0.1.0, (it, tt))), tt), tt)), (k.1.1.1.0, tt)), tt)), tt)))), record { pending = b.pending; this = b.this; top = b.top })
    names q n s s' t u a b (lexical_head {w = w} {x = x} for_of h1 h2 h3 h4 h5 h6) k = let it = one-new q w x a in ((tt, ((tt, (((tt, (it, (tt, tt))), tt), tt)), (k.1.1.0, ((tt, (((tt, (((tt, (k.1.0.1.0.0.1.0, (it, tt))), tt), tt)), (k.1.1.1.0, tt)), tt)), tt)))), record { pending = b.pending; this = b.this; top = b.top })
    names q n s s' t u a b (var_head {w = w} {x = x} for_in h1 h2 h3 h4 h5 h6) k = let it = one-new q w x a in ((tt, ((tt, (((tt, (it, (tt, tt))), tt), tt)), (k.1.1.0, ((tt, (((tt, (((tt, (k.1.0.1.0.0.1.0, (it, tt))), tt), tt)), (k.1.1.1.0, tt)), tt)), tt)))), record { pending = b.pending; this = b.this; top = b.top })
    names q n s s' t u a b (var_head {w = w} {x = x} for_of h1 h2 h3 h4 h5 h6) k = let it = one-new q w x a in ((tt, ((tt, (((tt, (it, (tt, tt))), tt), tt)), (k.1.1.0, ((tt, (((tt, (((tt, (k.1.0.1.0.0.1.0, (it, tt))), tt), tt)), (k.1.1.1.0, tt)), tt)), tt)))), record { pending = b.pending; this = b.this; top = b.top })

pub target-writes : Writes TargetHead
target-writes = writes-nodes {R = TargetHead} (record { only = target-only; imports = imports; no_names = none; freer = grows; same_called = called; names = names })
  where
    imports : (n : Site) (s s' : Ledger) (t u : Tree) → TargetHead n s (at_node t) s' (at_node u) → is_import u ≡ is_import t
    imports n s s' t u (target_head a b c d e f) = refl

    none : (n : Site) (s s' : Ledger) (l : Label) (fs : Fields) (u : Tree) → n.role ≡ Binds Class → TargetHead n s (at_node (node Identifier l fs)) s' (at_node u) → ⊥
    none n s s' l fs u e (target_head a b c d f g) = elim a [ ]

    grows : (n : Site) (s s' : Ledger) (t u : Tree) → TargetHead n s (at_node t) s' (at_node u) → (whole_in s).free_symbol ≤ (whole_in s').free_symbol
    grows n s s' t u (target_head {w = w} a b c d e f) = longer w.free_symbol 1

    called : (n : Site) (s s' : Ledger) (t u : Tree) → TargetHead n s (at_node t) s' (at_node u) → (m : ℕ) → m < (whole_in s).free_symbol → (whole_in s').called m ≡ (whole_in s).called m
    called n s s' t u (target_head {w = w} {x = x} a b c d e f) = numbered-old w.called w.free_symbol (next_name w x ∷ []) (refl, tt)

    names : (q : Text → Option ℕ → Bool) (n : Site) (s s' : Ledger) (t u : Tree) → Allows q (whole_in s) (whole_in s') → LedgerPasses q s → TargetHead n s (at_node t) s' (at_node u) → Passes q t → Passes q u × LedgerPasses q s'
    names q n s s' t u a b (target_head {w = w} {x = x} for_in h1 h2 h3 h4 h5) k = let it = one-new q w x a in ((tt, ((tt, (((tt, (it, (tt, tt))), tt), tt)), (k.1.1.0, ((tt, (((tt, ((tt, (k.1.0, (it, tt))), tt)), (k.1.1.1.0, tt)), tt)), tt)))), record { pending = b.pending; this = b.this; top = b.top })
    names q n s s' t u a b (target_head {w = w} {x = x} for_of h1 h2 h3 h4 h5) k = let it = one-new q w x a in ((tt, ((tt, (((tt, (it, (tt, tt))), tt), tt)), (k.1.1.0, ((tt, (((tt, ((tt, (k.1.0, (it, tt))), tt)), (k.1.1.1.0, tt)), tt)), tt)))), record { pending = b.pending; this = b.this; top = b.top })

-- OBJECT REST

split-pass : (q : Text → Option ℕ → Bool) (w : Whole) (r : Role) (x : Text) (d : Tree) (es : Trees) → SplitsOff w r x d es → Passes q (identifier (next_name w x)) → Passes q d → PassesAll q es
split-pass q w r x d es (source l p e rest fresh quiet) it k = ((tt, (it, (k.1.1.0, tt))), ((tt, (k.1.0, (it, tt))), tt))
split-pass q w r x d es (nested l lp lq ls a c f p rest fresh) it k =
    let parts = joined-passes q a (_ before c) k.1.0.1.0 in
    ((tt, ((tt, (passes-joined q a (_ before empty) parts.0 ((tt, (parts.1.0.1.0, (it, tt))), tt), tt)), (k.1.1.0, tt))), ((tt, (parts.1.0.1.1.0, (it, tt))), front-pass q lp (node Identifier ls done) c (declares_some lp (node Identifier ls done) c) (front-some lp (node Identifier ls done) c) parts.1.1 k.1.1.0))
split-pass q w r x d es (nested_default l lp lq la ls a c f p e rest fresh quiet) it k =
    let parts = joined-passes q a (_ before c) k.1.0.1.0 in
    ((tt, ((tt, (passes-joined q a (_ before empty) parts.0 ((tt, (parts.1.0.1.0, ((tt, (it, (parts.1.0.1.1.0.1.1.0, tt))), tt))), tt), tt)), (k.1.1.0, tt))), ((tt, (parts.1.0.1.1.0.1.0, (it, tt))), front-pass q lp (node Identifier ls done) c (declares_some lp (node Identifier ls done) c) (front-some lp (node Identifier ls done) c) parts.1.1 k.1.1.0))
split-pass q w r x d es (key l lp lq ls a c f v fresh reading quiet) it k =
    let parts = joined-passes q a (_ before c) k.1.0.1.0 in
    ((tt, ((tt, (parts.0, tt)), (k.1.1.0, tt))), ((tt, (it, (parts.1.0.1.0, tt))), ((tt, ((tt, (((tt, (it, (parts.1.0.1.1.0, tt))), parts.1.1), tt)), (k.1.1.0, tt))), tt)))

pub split-writes : Writes SplitRule
split-writes = writes-nodes {R = SplitRule} (record { only = split-only; imports = imports; no_names = none; freer = grows; same_called = called; names = names })
  where
    imports : (n : Site) (s s' : Ledger) (t u : Tree) → SplitRule n s (at_node t) s' (at_node u) → is_import u ≡ is_import t
    imports n s s' t u (splits m a c d es x free f g) = refl

    none : (n : Site) (s s' : Ledger) (l : Label) (fs : Fields) (u : Tree) → n.role ≡ Binds Class → SplitRule n s (at_node (node Identifier l fs)) s' (at_node u) → ⊥
    none n s s' l fs u e h = elim h [ ]

    grows : (n : Site) (s s' : Ledger) (t u : Tree) → SplitRule n s (at_node t) s' (at_node u) → (whole_in s).free_symbol ≤ (whole_in s').free_symbol
    grows n s s' t u (splits {w = w} m a c d es x free f g) = longer w.free_symbol 1

    called : (n : Site) (s s' : Ledger) (t u : Tree) → SplitRule n s (at_node t) s' (at_node u) → (m : ℕ) → m < (whole_in s).free_symbol → (whole_in s').called m ≡ (whole_in s).called m
    called n s s' t u (splits {w = w} m a c d es x free f g) = numbered-old w.called w.free_symbol (next_name w x ∷ []) (refl, tt)

    names : (q : Text → Option ℕ → Bool) (n : Site) (s s' : Ledger) (t u : Tree) → Allows q (whole_in s) (whole_in s') → LedgerPasses q s → SplitRule n s (at_node t) s' (at_node u) → Passes q t → Passes q u × LedgerPasses q s'
    names q n s s' t u h b (splits {w = w} m a c d es x free f g) k = let parts = joined-passes q a (d before c) k.1.0 in ((tt, (passes-joined q a (joined_trees es c) parts.0 (passes-joined q es c (split-pass q w _ x d es g (one-new q w x h) parts.1.0) parts.1.1), tt)), record { pending = b.pending; this = b.this; top = b.top })

-- keys, and the value of a rest
key-pass : (q : Text → Option ℕ → Bool) (ds : Trees) (k : Tree) → IsKey ds k → PassesAll q ds → Passes q k
key-pass q ds k (text_key x) h = (tt, tt)
key-pass q ds k (name_key l lp lq lk xs ys a c v e d computed) h =
    let property : Tree = node PatternProperty lq (one (node Identifier lk done) then one v then done) in
    let parts = joined-passes q xs (declares_as l (pattern_node lp (joined_trees a (property before c))) e before ys) (subst (λ (z : Trees). PassesAll q z) d h) in
    (joined-passes q a (property before c) parts.1.0.1.0.1.0).1.0.1.0

keys-pass : (q : Text → Option ℕ → Bool) (ds : Trees) (ks : List Tree) → AreKeys ds ks → PassesAll q ds → PassesIn q (fields (map one ks))
keys-pass q ds [] h k = tt
keys-pass q ds (t ∷ ks) h k = (key-pass q ds t h.0 k, keys-pass q ds ks h.1 k)

helper-pass : (q : Text → Option ℕ → Bool) (words : (x : Text) → q x None ≡ true) (h : Text) → Passes q (helper_node h)
helper-pass q words h = (tt, ((words (codes "babelHelpers"), tt), ((words h, tt), tt)))

value-pass : (q : Text → Option ℕ → Bool) (words : (x : Text) → q x None ≡ true) (ds : Trees) (lp : Label) (s : Tree) (ps fs : Trees) (e : Tree) → RestOf ds lp s ps fs e → PassesAll q ds → Passes q s → Passes q e
value-pass q words ds lp s ps fs e (beside ks) all it = (tt, (helper-pass q words (codes "objectWithoutProperties"), ((it, ((tt, keys-pass q ds (map string_node ks) (texts-are-keys ds ks) all), tt)), tt)))
value-pass q words ds lp s ps fs e (mapped ks h) all it =
    let called : Passes q (call_node (member_node (array_node ks) (codes "map")) (helper_node (codes "toPropertyKey") ∷ [])) = (tt, ((tt, ((tt, keys-pass q ds ks h all), ((words (codes "map"), tt), tt))), ((helper-pass q words (codes "toPropertyKey"), tt), tt))) in
    (tt, (helper-pass q words (codes "objectWithoutProperties"), ((it, (called, tt)), tt)))
value-pass q words ds lp s ps fs e rest_alone all it =
    let empties : Passes q (call_node (helper_node (codes "objectDestructuringEmpty")) (s ∷ [])) = (tt, (helper-pass q words (codes "objectDestructuringEmpty"), ((it, tt), tt))) in
    (tt, (helper-pass q words (codes "extends"), (((tt, (tt, tt)), ((tt, ((empties, (it, tt)), tt)), tt)), tt)))

pub takes-rest-writes : Writes TakesRest
takes-rest-writes = writes-nodes {R = TakesRest} (record { only = rest-only; imports = imports; no_names = none; freer = grows; same_called = called; names = names })
  where
    imports : (n : Site) (s s' : Ledger) (t u : Tree) → TakesRest n s (at_node t) s' (at_node u) → is_import u ≡ is_import t
    imports n s s' t u (takes_rest m l lp lr ls a ps c d r f g) = refl

    none : (n : Site) (s s' : Ledger) (l : Label) (fs : Fields) (u : Tree) → n.role ≡ Binds Class → TakesRest n s (at_node (node Identifier l fs)) s' (at_node u) → ⊥
    none n s s' l fs u e h = elim h [ ]

    grows : (n : Site) (s s' : Ledger) (t u : Tree) → TakesRest n s (at_node t) s' (at_node u) → (whole_in s).free_symbol ≤ (whole_in s').free_symbol
    grows n s s' t u (takes_rest m l lp lr ls a ps c d r f g) = at-least (whole_in s).free_symbol

    called : (n : Site) (s s' : Ledger) (t u : Tree) → TakesRest n s (at_node t) s' (at_node u) → (m : ℕ) → m < (whole_in s).free_symbol → (whole_in s').called m ≡ (whole_in s).called m
    called n s s' t u (takes_rest v l lp lr ls a ps c d r f g) m e = refl

    names : (q : Text → Option ℕ → Bool) (n : Site) (s s' : Ledger) (t u : Tree) → Allows q (whole_in s) (whole_in s') → LedgerPasses q s → TakesRest n s (at_node t) s' (at_node u) → Passes q t → Passes q u × LedgerPasses q s'
    names q n s s' t u h b (takes_rest {fs = fs} {e = e} m l lp lr ls a ps c d r f g) k =
        let old = declares_rest l lp ps lr d (node Identifier ls done) in
        let parts = joined-passes q a (old before c) k.1.0 in
        let inner = joined-passes q ps (_ before empty) parts.1.0.1.0.1.0 in
        let source = parts.1.0.1.1.0 in
        let last : PassesAll q (declarator_with d e before empty) = ((tt, (inner.1.0.1.0, (value-pass q h.words (joined_trees a (old before empty)) lp (node Identifier ls done) ps fs e r (passes-joined q a (old before empty) parts.0 (parts.1.0, tt)) source, tt))), tt) in
        let own = passes-joined q fs (declarator_with d e before empty) (front-pass q lp (node Identifier ls done) ps fs (front-of (joined_trees a (old before empty)) lp (node Identifier ls done) ps fs e r) inner.0 source) last in
        ((tt, (passes-joined q a (joined_trees (and_declarator fs d e) c) parts.0 (passes-joined q (and_declarator fs d e) c own parts.1.1), tt)), b)

-- USING

pub used-pass : (q : Text → Option ℕ → Bool) (words : (x : Text) → q x None ≡ true) (c : Bound) → Passes q (identifier c) → (ds es : Trees) → UsedAll c ds es → PassesAll q ds → PassesAll q es
used-pass q words c it ds es no_more k = tt
used-pass q words c it ds es (uses {ds = ds'} {es = es'} h) k = ((tt, (k.0.1.0, ((tt, ((tt, (it, ((words (codes "u"), tt), tt))), ((k.0.1.1.0, tt), tt))), tt))), used-pass q words c it ds' es' h k.1)

pub constants-pass : (q : Text → Option ℕ → Bool) (words : (x : Text) → q x None ≡ true) (c : Bound) → Passes q (identifier c) → (ts us : Trees) → Constants c ts us → PassesAll q ts → PassesAll q us
constants-pass q words c it ts us ended k = tt
constants-pass q words c it ts us (stays {ts = ts'} {us = us'} other h) k = (k.0, constants-pass q words c it ts' us' h k.1)
constants-pass q words c it ts us (using {ds = ds} {es = es} {ts = ts'} {us = us'} e d h) k = ((tt, (used-pass q words c it ds es d k.0.1.0, tt)), constants-pass q words c it ts' us' h k.1)

-- the new names of a context
pub context-names : (q : Text → Option ℕ → Bool) (w : Whole) (x : Text) → Allows q w (with_context x w) → Passes q (identifier (next_name w x)) × Passes q (identifier (error_of w))
context-names q w x a =
    let new = numbered-new q w.called (calling (next_name w x ∷ error_of w ∷ []) w.called) w.free_symbol (next_name w x ∷ error_of w ∷ []) (refl, (refl, tt)) (λ m e. refl) a.new in
    ((first-of (q x (Some w.free_symbol)) _ new, tt), (first-of _ true (second-of (q x (Some w.free_symbol)) _ new), tt))

pub context-called : (w : Whole) (x : Text) (m : ℕ) → m < w.free_symbol → (with_context x w).called m ≡ w.called m
context-called w x = numbered-old w.called w.free_symbol (next_name w x ∷ error_of w ∷ []) (refl, (refl, tt))

-- the made `try`
pub protected-pass : (q : Text → Option ℕ → Bool) (words : (x : Text) → q x None ≡ true) (c u : Bound) → Passes q (identifier c) → Passes q (identifier u) → (ts : Trees) → PassesAll q ts → Passes q (protected c u ts)
protected-pass q words c u it error ts list =
    let call : Passes q (word (codes "babelHelpers")) = (words (codes "babelHelpers"), tt) in
    (tt, ((tt, (((tt, (((tt, (it, ((tt, ((tt, (call, ((words (codes "usingCtx"), tt), tt))), (tt, tt))), tt))), tt), tt)), list), tt)), ((tt, (error, ((tt, (((tt, ((tt, ((tt, (it, ((words (codes "e"), tt), tt))), (error, tt))), tt)), tt), tt)), tt))), ((tt, (((tt, ((tt, ((tt, (it, ((words (codes "d"), tt), tt))), (tt, tt))), tt)), tt), tt)), tt))))

pub block-writes : Writes BlockUsing
block-writes = writes-nodes {R = BlockUsing} (record { only = block-only; imports = imports; no_names = none; freer = grows; same_called = called; names = names })
  where
    imports : (n : Site) (s s' : Ledger) (t u : Tree) → BlockUsing n s (at_node t) s' (at_node u) → is_import u ≡ is_import t
    imports n s s' t u (of_block f g h d) = refl
    imports n s s' t u (of_part f g h d) = refl

    none : (n : Site) (s s' : Ledger) (l : Label) (fs : Fields) (u : Tree) → n.role ≡ Binds Class → BlockUsing n s (at_node (node Identifier l fs)) s' (at_node u) → ⊥
    none n s s' l fs u e h = elim h [ ]

    grows : (n : Site) (s s' : Ledger) (t u : Tree) → BlockUsing n s (at_node t) s' (at_node u) → (whole_in s).free_symbol ≤ (whole_in s').free_symbol
    grows n s s' t u (of_block {w = w} f g h d) = longer w.free_symbol 2
    grows n s s' t u (of_part {w = w} f g h d) = longer w.free_symbol 2

    called : (n : Site) (s s' : Ledger) (t u : Tree) → BlockUsing n s (at_node t) s' (at_node u) → (m : ℕ) → m < (whole_in s).free_symbol → (whole_in s').called m ≡ (whole_in s).called m
    called n s s' t u (of_block {w = w} {c = x} f g h d) = context-called w x
    called n s s' t u (of_part {w = w} {c = x} f g h d) = context-called w x

    names : (q : Text → Option ℕ → Bool) (n : Site) (s s' : Ledger) (t u : Tree) → Allows q (whole_in s) (whole_in s') → LedgerPasses q s → BlockUsing n s (at_node t) s' (at_node u) → Passes q t → Passes q u × LedgerPasses q s'
    names q n s s' t u a b (of_block {w = w} {ts = ts} {us = us} {c = x} f g h d) k =
        let it = context-names q w x a in
        (protected-pass q a.words (next_name w x) (error_of w) it.0 it.1 us (constants-pass q a.words (next_name w x) it.0 ts us d k.1.0), record { pending = b.pending; this = b.this; top = b.top })
    names q n s s' t u a b (of_part {w = w} {ts = ts} {us = us} {c = x} f g h d) k =
        let it = context-names q w x a in
        ((tt, ((protected-pass q a.words (next_name w x) (error_of w) it.0 it.1 us (constants-pass q a.words (next_name w x) it.0 ts us d k.1.0), tt), tt)), record { pending = b.pending; this = b.this; top = b.top })

-- ARROWS

pub arrow-writes : Writes ArrowRule
arrow-writes = writes-nodes {R = ArrowRule} (record { only = arrow-only; imports = imports; no_names = none; freer = grows; same_called = called; names = names })
  where
    imports : (n : Site) (s s' : Ledger) (t u : Tree) → ArrowRule n s (at_node t) s' (at_node u) → is_import u ≡ is_import t
    imports n s s' t u (by_name f g h d e p) = refl
    imports n s s' t u (by_new_name f g h d) = refl
    imports n s s' t u (with_body f) = refl
    imports n s s' t u (with_expression f g) = refl

    none : (n : Site) (s s' : Ledger) (l : Label) (fs : Fields) (u : Tree) → n.role ≡ Binds Class → ArrowRule n s (at_node (node Identifier l fs)) s' (at_node u) → ⊥
    none n s s' l fs u e h = elim h [ ]

    grows : (n : Site) (s s' : Ledger) (t u : Tree) → ArrowRule n s (at_node t) s' (at_node u) → (whole_in s).free_symbol ≤ (whole_in s').free_symbol
    grows n s s' t u (by_name f g h d e p) = at-least (whole_in s).free_symbol
    grows n s s' t u (by_new_name {w = w} {x = x} f g h d) = longer w.free_symbol 1
    grows n s s' t u (with_body f) = at-least (whole_in s).free_symbol
    grows n s s' t u (with_expression f g) = at-least (whole_in s).free_symbol

    called : (n : Site) (s s' : Ledger) (t u : Tree) → ArrowRule n s (at_node t) s' (at_node u) → (m : ℕ) → m < (whole_in s).free_symbol → (whole_in s').called m ≡ (whole_in s).called m
    called n s s' t u (by_name f g h d i p) m e = refl
    called n s s' t u (by_new_name {w = w} {x = x} f g h d) m e = numbered-old w.called w.free_symbol (next_name w x ∷ []) (refl, tt) m e
    called n s s' t u (with_body f) m e = refl
    called n s s' t u (with_expression f g) m e = refl

    names : (q : Text → Option ℕ → Bool) (n : Site) (s s' : Ledger) (t u : Tree) → Allows q (whole_in s) (whole_in s') → LedgerPasses q s → ArrowRule n s (at_node t) s' (at_node u) → Passes q t → Passes q u × LedgerPasses q s'
    names q n s s' t u a b (by_name f g h d e p) k = ((b.this, tt), b)
    names q n s s' t u a b (by_new_name {w = w} {x = x} f g h d) k = let it = one-new q w x a in (it, record { pending = b.pending; this = it.0; top = b.top })
    names q n s s' t u a b (with_body f) k = ((tt, (tt, k.1)), b)
    names q n s s' t u a b (with_expression f g) k = ((tt, (tt, (k.1.0, ((tt, (tt, (((tt, (k.1.1.0, tt)), tt), tt))), tt)))), b)

-- NAMESPACE EXPORTS

pub namespace-writes : Writes NamespaceRule
namespace-writes = record {
  imports = λ n s s' t u h. absurd (exports-nodes h);
  flanks_none = flanks;
  no_names = none;
  freer = grows;
  same_called = called;
  names = λ q n s s' t u a b h k. absurd (exports-nodes h);
  names_beside = beside;
  names_in_lists = λ q n s s' p p' x y a b ts us c d h k. absurd (exports-nodes h);
}
  where
    flanks : (n : Site) (s s' : Ledger) (t u : Tree) (bs cs : List Tree) → NamespaceRule n s (at_node t) s' (at_beside bs u cs) → (is_import t ≡ false) × (goes_on (flanks_with bs u cs empty) ≡ true)
    flanks n s s' t u bs cs (exports top fresh q r o) = (refl, refl)

    none : (n : Site) (s s' : Ledger) (l : Label) (fs : Fields) (y : Spot) → n.role ≡ Binds Class → NamespaceRule n s (at_node (node Identifier l fs)) s' y → ⊥
    none n s s' l fs y e h = elim h [ ]

    grows : (n : Site) (s s' : Ledger) (x y : Spot) → NamespaceRule n s x s' y → (whole_in s).free_symbol ≤ (whole_in s').free_symbol
    grows n s s' x y (exports {w = w} top fresh q r o) = longer w.free_symbol 1

    called : (n : Site) (s s' : Ledger) (x y : Spot) → NamespaceRule n s x s' y → (m : ℕ) → m < (whole_in s).free_symbol → (whole_in s').called m ≡ (whole_in s).called m
    called n s s' x y (exports {w = w} {x = z} top fresh q r o) = numbered-old w.called w.free_symbol (next_name w z ∷ []) (refl, tt)

    beside : (q : Text → Option ℕ → Bool) (n : Site) (s s' : Ledger) (t u : Tree) (bs cs : List Tree) → Allows q (whole_in s) (whole_in s') → LedgerPasses q s → NamespaceRule n s (at_node t) s' (at_beside bs u cs) → Passes q t → PassesAll q (flanks_with bs u cs empty) × LedgerPasses q s'
    beside q n s s' t u bs cs a b (exports {w = w} {x = x} top fresh r o e) k =
        let it = one-new q w x a in
        (((tt, (((tt, (it, tt)), tt), (k.1.1.0, (k.1.1.1.0, tt)))), ((tt, (tt, (((tt, (it, (k.1.0, tt))), tt), (tt, (tt, tt))))), tt)), record { pending = b.pending; this = b.this; top = b.top })
