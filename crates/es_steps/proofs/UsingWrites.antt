-- What the rules of `using` write, outside blocks.
use Rattle.std.proofs.Common.{◌≤◌, ◌<◌, ◌≡◌, ◌∙◌, ℕ, ap, refl, sym}
use Rattle.std.specs.Prelude.{Bool, true, false, Option, None}
use Rattle.es_tree.specs.Words.{Text}
use Rattle.es_tree.specs.Tree.{Tree, Trees, node, Label, Fields, Field, done, ◌then◌, many, empty, ◌before◌}
use Rattle.es_tree.specs.declared.ast_type.AstType.TheVariants.{Identifier, SwitchStatement}
use Rattle.es_semantic.specs.declared.place.Binding.TheVariants.{Class}
use Rattle.es_semantic.specs.declared.place.Role.TheVariants.{Binds}
use Rattle.es_tree.specs.Scopes.{name_in}
use Rattle.es_resolution.specs.Declarations.{Bound, symbol_of}
use Rattle.es_steps.specs.Nodes.{identifier, joined_trees}
use Rattle.es_steps.specs.Identifiers.{HasIdentifier, Passes, PassesAll}
use Rattle.es_steps.specs.Open.{is_import}
use Rattle.es_steps.specs.Rules.{next_name}
use Rattle.es_steps.specs.Steps.{Ledger, Site, at_node}
use Rattle.es_steps.specs.UsingBlocks.{error_of, protected}
use Rattle.es_steps.specs.UsingBodies.{static_block, BodyUsing}
use Rattle.es_steps.specs.UsingBodies.IsClass.{class_declaration, class_expression}
use Rattle.es_steps.specs.UsingBodies.BodyUsing.{of_declaration, of_expression, of_arrow, of_static_block}
use Rattle.es_steps.specs.UsingLoops.{UsesInHead, LoopUsing}
use Rattle.es_steps.specs.UsingLoops.LoopUsing.{of_loop}
use Rattle.es_steps.specs.UsingLoops.UsesInHead.{in_head, with_label}
use Rattle.es_steps.specs.UsingSwitches.{ConstantsInCases, switch_fields, SwitchUsing}
use Rattle.es_steps.specs.UsingSwitches.ConstantsInCases.{no_case, in_case}
use Rattle.es_steps.specs.UsingSwitches.SwitchUsing.{of_switch}
use Rattle.es_steps.proofs.BodyWraps.{body-only}
use Rattle.es_steps.proofs.Passing.{passes-joined, joined-passes}
use Rattle.es_steps.proofs.Passed.{first-only}
use Rattle.es_steps.proofs.RulesWrite.{longer, writes-nodes, context-names, context-called, protected-pass, used-pass, constants-pass}
use Rattle.es_steps.proofs.StatementWraps.{loop-only, switch-only}
use Rattle.es_steps.proofs.Taken.{whole_in, Writes, Allows, LedgerPasses}

-- BODIES

-- a class whose members change, and not its name
class-own : (q : Text → Option ℕ → Bool) (s : Option ℕ) (f : Field) (fs gs : Fields) → HasIdentifier (f then fs) × (q (name_in (f then fs)) s ≡ true) → HasIdentifier (f then gs) × (q (name_in (f then gs)) s ≡ true)
class-own q s f fs gs h = let o = first-only f fs gs h.0 in (o.0, ap (λ z. q z s) o.1 ∙ h.1)

pub body-writes : Writes BodyUsing
body-writes = writes-nodes {R = BodyUsing} (record { only = body-only; imports = imports; no_names = none; freer = grows; same_called = called; names = names })
  where
    imports : (n : Site) (s s' : Ledger) (t u : Tree) → BodyUsing n s (at_node t) s' (at_node u) → is_import u ≡ is_import t
    imports n s s' t u (of_declaration a b c d e f) = refl
    imports n s s' t u (of_expression a b c d e f) = refl
    imports n s s' t u (of_arrow a b c d e) = refl
    imports n s s' t u (of_static_block l xs zs ts us a b c d e) = refl

    not-named : (n : Site) (s s' : Ledger) (l : Label) (fs : Fields) (u : Tree) → BodyUsing n s (at_node (node Identifier l fs)) s' (at_node u) → ⊥
    not-named n s s' l fs u (of_static_block m xs zs ts us a b c d e) = elim a [ ]

    none : (n : Site) (s s' : Ledger) (l : Label) (fs : Fields) (u : Tree) → n.role ≡ Binds Class → BodyUsing n s (at_node (node Identifier l fs)) s' (at_node u) → ⊥
    none n s s' l fs u e h = not-named n s s' l fs u h

    grows : (n : Site) (s s' : Ledger) (t u : Tree) → BodyUsing n s (at_node t) s' (at_node u) → (whole_in s).free_symbol ≤ (whole_in s').free_symbol
    grows n s s' t u (of_declaration {w = w} a b c d e f) = longer w.free_symbol 2
    grows n s s' t u (of_expression {w = w} a b c d e f) = longer w.free_symbol 2
    grows n s s' t u (of_arrow {w = w} a b c d e) = longer w.free_symbol 2
    grows n s s' t u (of_static_block {w = w} l xs zs ts us a b c d e) = longer w.free_symbol 2

    called : (n : Site) (s s' : Ledger) (t u : Tree) → BodyUsing n s (at_node t) s' (at_node u) → (m : ℕ) → m < (whole_in s).free_symbol → (whole_in s').called m ≡ (whole_in s).called m
    called n s s' t u (of_declaration {w = w} {c = x} a b c d e f) = context-called w x
    called n s s' t u (of_expression {w = w} {c = x} a b c d e f) = context-called w x
    called n s s' t u (of_arrow {w = w} {c = x} a b c d e) = context-called w x
    called n s s' t u (of_static_block {w = w} {c = x} l xs zs ts us a b c d e) = context-called w x

    names : (q : Text → Option ℕ → Bool) (n : Site) (s s' : Ledger) (t u : Tree) → Allows q (whole_in s) (whole_in s') → LedgerPasses q s → BodyUsing n s (at_node t) s' (at_node u) → Passes q t → Passes q u × LedgerPasses q s'
    names q n s s' t u g b (of_declaration {w = w} {ts = ts} {us = us} {c = x} f-name directives some may takes h) k =
        let it = context-names q w x g in
        ((k.0, (k.1.0, (k.1.1.0, ((tt, (k.1.1.1.0.1.0, ((protected-pass q g.words (next_name w x) (error_of w) it.0 it.1 us (constants-pass q g.words (next_name w x) it.0 ts us h k.1.1.1.0.1.1.0), tt), tt))), tt)))), record { pending = b.pending; this = b.this; top = b.top })
    names q n s s' t u g b (of_expression {w = w} {ts = ts} {us = us} {c = x} f-name directives some may takes h) k =
        let it = context-names q w x g in
        ((k.0, (k.1.0, (k.1.1.0, ((tt, (k.1.1.1.0.1.0, ((protected-pass q g.words (next_name w x) (error_of w) it.0 it.1 us (constants-pass q g.words (next_name w x) it.0 ts us h k.1.1.1.0.1.1.0), tt), tt))), tt)))), record { pending = b.pending; this = b.this; top = b.top })
    names q n s s' t u g b (of_arrow {w = w} {ts = ts} {us = us} {c = x} directives some may takes h) k =
        let it = context-names q w x g in
        ((k.0, (k.1.0, ((tt, (k.1.1.0.1.0, ((protected-pass q g.words (next_name w x) (error_of w) it.0 it.1 us (constants-pass q g.words (next_name w x) it.0 ts us h k.1.1.0.1.1.0), tt), tt))), tt))), record { pending = b.pending; this = b.this; top = b.top })
    names q n s s' t u g b (of_static_block {w = w} {m = m} {f = f} {g = o} {c = x} l xs zs ts us class_declaration some may takes h) k =
        let it = context-names q w x g in
        let parts = joined-passes q xs (static_block l ts before zs) k.1.1.1.0 in
        let made_block = static_block l (protected (next_name w x) (error_of w) us before empty) in
        ((class-own q (symbol_of m) f (o then many (joined_trees xs (static_block l ts before zs)) then done) (o then many (joined_trees xs (made_block before zs)) then done) k.0, (k.1.0, (k.1.1.0, (passes-joined q xs (made_block before zs) parts.0 ((tt, ((protected-pass q g.words (next_name w x) (error_of w) it.0 it.1 us (constants-pass q g.words (next_name w x) it.0 ts us h parts.1.0.1.0), tt), tt)), parts.1.1), tt)))), record { pending = b.pending; this = b.this; top = b.top })
    names q n s s' t u g b (of_static_block {w = w} {m = m} {f = f} {g = o} {c = x} l xs zs ts us class_expression some may takes h) k =
        let it = context-names q w x g in
        let parts = joined-passes q xs (static_block l ts before zs) k.1.1.1.0 in
        let made_block = static_block l (protected (next_name w x) (error_of w) us before empty) in
        ((class-own q (symbol_of m) f (o then many (joined_trees xs (static_block l ts before zs)) then done) (o then many (joined_trees xs (made_block before zs)) then done) k.0, (k.1.0, (k.1.1.0, (passes-joined q xs (made_block before zs) parts.0 ((tt, ((protected-pass q g.words (next_name w x) (error_of w) it.0 it.1 us (constants-pass q g.words (next_name w x) it.0 ts us h parts.1.0.1.0), tt), tt)), parts.1.1), tt)))), record { pending = b.pending; this = b.this; top = b.top })

-- LOOPS

head-pass : (q : Text → Option ℕ → Bool) (words : (x : Text) → q x None ≡ true) (c : Bound) → Passes q (identifier c) → (t u : Tree) → UsesInHead c t u → Passes q t → Passes q u
head-pass q words c it t u (in_head {ds = ds} {es = es} texts all) k = (k.0, ((k.1.0.0, (used-pass q words c it ds es all k.1.0.1.0, tt)), k.1.1))
head-pass q words c it t u (with_label {t = t'} {u = u'} rest) k = (k.0, (k.1.0, (head-pass q words c it t' u' rest k.1.1.0, tt)))

head-import : (c : Bound) (t u : Tree) → UsesInHead c t u → is_import t ≡ false
head-import c t u (in_head texts all) = refl
head-import c t u (with_label rest) = refl

pub loop-writes : Writes LoopUsing
loop-writes = writes-nodes {R = LoopUsing} (record { only = loop-only; imports = imports; no_names = none; freer = grows; same_called = called; names = names })
  where
    imports : (n : Site) (s s' : Ledger) (t u : Tree) → LoopUsing n s (at_node t) s' (at_node u) → is_import u ≡ is_import t
    imports n s s' t u (of_loop {w = w} {u = u'} {c = x} a b h) = sym (head-import (next_name w x) t u' h)

    not-named : (n : Site) (s s' : Ledger) (l : Label) (fs : Fields) (u : Tree) → LoopUsing n s (at_node (node Identifier l fs)) s' (at_node u) → ⊥
    not-named n s s' l fs u (of_loop a b h) = elim h [ ]

    none : (n : Site) (s s' : Ledger) (l : Label) (fs : Fields) (u : Tree) → n.role ≡ Binds Class → LoopUsing n s (at_node (node Identifier l fs)) s' (at_node u) → ⊥
    none n s s' l fs u e h = not-named n s s' l fs u h

    grows : (n : Site) (s s' : Ledger) (t u : Tree) → LoopUsing n s (at_node t) s' (at_node u) → (whole_in s).free_symbol ≤ (whole_in s').free_symbol
    grows n s s' t u (of_loop {w = w} a b h) = longer w.free_symbol 2

    called : (n : Site) (s s' : Ledger) (t u : Tree) → LoopUsing n s (at_node t) s' (at_node u) → (m : ℕ) → m < (whole_in s).free_symbol → (whole_in s').called m ≡ (whole_in s).called m
    called n s s' t u (of_loop {w = w} {c = x} a b h) = context-called w x

    names : (q : Text → Option ℕ → Bool) (n : Site) (s s' : Ledger) (t u : Tree) → Allows q (whole_in s) (whole_in s') → LedgerPasses q s → LoopUsing n s (at_node t) s' (at_node u) → Passes q t → Passes q u × LedgerPasses q s'
    names q n s s' t u g b (of_loop {w = w} {u = u'} {c = x} place takes h) k =
        let it = context-names q w x g in
        (protected-pass q g.words (next_name w x) (error_of w) it.0 it.1 (u' before empty) (head-pass q g.words (next_name w x) it.0 t u' h k, tt), record { pending = b.pending; this = b.this; top = b.top })

-- SWITCHES

cases-pass : (q : Text → Option ℕ → Bool) (words : (x : Text) → q x None ≡ true) (c : Bound) → Passes q (identifier c) → (ts us : Trees) → ConstantsInCases c ts us → PassesAll q ts → PassesAll q us
cases-pass q words c it ts us no_case k = tt
cases-pass q words c it ts us (in_case {ts = ss} {us = zs} {cs = cs} {ds = ds} h rest) k = ((k.0.0, (k.0.1.0, (constants-pass q words c it ss zs h k.0.1.1.0, tt))), cases-pass q words c it cs ds rest k.1)

pub switch-writes : Writes SwitchUsing
switch-writes = writes-nodes {R = SwitchUsing} (record { only = switch-only; imports = imports; no_names = none; freer = grows; same_called = called; names = names })
  where
    imports : (n : Site) (s s' : Ledger) (t u : Tree) → SwitchUsing n s (at_node t) s' (at_node u) → is_import u ≡ is_import t
    imports n s s' t u (of_switch a b c d) = refl

    none : (n : Site) (s s' : Ledger) (l : Label) (fs : Fields) (u : Tree) → n.role ≡ Binds Class → SwitchUsing n s (at_node (node Identifier l fs)) s' (at_node u) → ⊥
    none n s s' l fs u e h = elim h [ ]

    grows : (n : Site) (s s' : Ledger) (t u : Tree) → SwitchUsing n s (at_node t) s' (at_node u) → (whole_in s).free_symbol ≤ (whole_in s').free_symbol
    grows n s s' t u (of_switch {w = w} a b c d) = longer w.free_symbol 2

    called : (n : Site) (s s' : Ledger) (t u : Tree) → SwitchUsing n s (at_node t) s' (at_node u) → (m : ℕ) → m < (whole_in s).free_symbol → (whole_in s').called m ≡ (whole_in s).called m
    called n s s' t u (of_switch {w = w} {c = x} a b c d) = context-called w x

    names : (q : Text → Option ℕ → Bool) (n : Site) (s s' : Ledger) (t u : Tree) → Allows q (whole_in s) (whole_in s') → LedgerPasses q s → SwitchUsing n s (at_node t) s' (at_node u) → Passes q t → Passes q u × LedgerPasses q s'
    names q n s s' t u g b (of_switch {w = w} {m = m} {d = d} {cs = cs} {ds = ds} {c = x} some silent takes h) k =
        let it = context-names q w x g in
        (protected-pass q g.words (next_name w x) (error_of w) it.0 it.1 (node SwitchStatement m (switch_fields d ds) before empty) ((k.0, (k.1.0, (cases-pass q g.words (next_name w x) it.0 cs ds h k.1.1.0, tt))), tt), record { pending = b.pending; this = b.this; top = b.top })
