-- `using` in the head of a `for`-`of`.
use Rattle.std.proofs.Common.{◌≤◌, ◌<◌, ◌≡◌, ℕ, refl, sym, subst, [], ◌∷◌}
use Rattle.std.specs.Prelude.{Bool, false, Option, Some, codes}
use Rattle.es_tree.specs.Words.{Text}
use Rattle.es_tree.specs.Tree.{Tree, node, Label, Fields}
use Rattle.es_tree.specs.declared.ast_type.AstType.TheVariants.{ForOfStatement, Identifier, VariableDeclaration, VariableDeclarator}
use Rattle.es_semantic.specs.RolesOf.{reads}
use Rattle.es_semantic.specs.declared.place.Binding.TheVariants.{Class, Constant}
use Rattle.es_semantic.specs.declared.place.Role.TheVariants.{Binds}
use Rattle.es_resolution.specs.Declarations.{declared}
use Rattle.es_resolution.specs.Named.{Named}
use Rattle.es_steps.specs.Identifiers.{Passes}
use Rattle.es_steps.specs.LoopHeads.{head_fields}
use Rattle.es_steps.specs.LoopHeads.IsForEach.{for_of}
use Rattle.es_steps.specs.Open.{is_import}
use Rattle.es_steps.specs.Patterns.{IsSilent, avoiding}
use Rattle.es_steps.specs.Rules.{next_name}
use Rattle.es_steps.specs.Steps.{Whole, Ledger, Site, Spot, at_node}
use Rattle.es_steps.specs.UsingLoops.{block_head, HeadUsing}
use Rattle.es_steps.specs.UsingLoops.HeadUsing.{of_head}
use Rattle.es_steps.proofs.Heads.{head-loop, lexical-binds}
use Rattle.es_steps.proofs.Kept.{Kept}
use Rattle.es_steps.proofs.Kept.Change.{sealed}
use Rattle.es_resolution.proofs.MoreNames.{own-more}
use Rattle.es_steps.proofs.Numbered.{numbered-old}
use Rattle.es_steps.proofs.OneName.{knowing, one-taken}
use Rattle.es_steps.proofs.RuleLaws.{AtNodes, nodes-only}
use Rattle.es_steps.proofs.RulesWrite.{longer, one-new, writes-nodes}
use Rattle.es_steps.proofs.Taken.{whole_in, NodesKept, Outcome, Lawful, Writes, Allows, LedgerPasses}

abbrev by_using : Label → Label
by_using l = record l { texts = Some (codes "using") ∷ [] }

-- where the word stands written out
head-kept : (n : Site) (w : Whole) (m l k : Label) (p e b : Tree) (x : Text) (free : w.in_use x ≡ false) (apart : Named (avoiding (declared false (Binds Constant) p) w.in_use) w.free_symbol reads e) (quiet : IsSilent reads e) (body : declared false reads b ≡ []) → Named w.in_use w.free_symbol n.role (node ForOfStatement m (head_fields (by_using l) k p e b)) →
    Kept (knowing w x free) n.names sealed n.role (node ForOfStatement m (head_fields (by_using l) k p e b)) (node ForOfStatement m (block_head l k (next_name w x) p e b))
head-kept n w m l k p e b x free apart quiet body used =
    let h = head-loop n w m (by_using l) k p e b x free sealed (declared false (Binds Constant) p) (next_name w x ∷ []) [] (lexical-binds w x free Constant refl) refl apart quiet body for_of used in
    let z = knowing w x free in
    let more = own-more w.in_use z.in_use_after z.more w.free_symbol z.free_after z.freer in
    record {
      kind = h.kind;
      top = h.top;
      own = h.own;
      lexical = h.lexical;
      hoisted = h.hoisted;
      named = (h.named.0, (((tt, (more reads VariableDeclaration l used.1.0.0).1), ((((tt, (more (Binds Constant) VariableDeclarator k used.1.0.1.0.0.0).1), h.named.1.0.1.0.0.1), tt), tt)), h.named.1.1));
      scopes = h.scopes;
      new_scopes = h.new_scopes;
      resolved = h.resolved;
    }

pub head-using-nodes : (n : Site) (s s' : Ledger) (t u : Tree) → HeadUsing n s (at_node t) s' (at_node u) → Named (whole_in s).in_use (whole_in s).free_symbol n.role t → Outcome (NodesKept n t u) s s'
head-using-nodes n s s' t u (of_head {w = w} {q = q} {y = y} {a = a} {m = m} {l = l} {k = k} {x = p} {e = e} {b = b} {c = x} texts fresh apart quiet body) used =
    one-taken q y a w x fresh.free sealed refl
    (subst (λ (z : Label). Kept (knowing w x fresh.free) n.names sealed n.role (node ForOfStatement m (head_fields z k p e b)) u) (sym same)
    (head-kept n w m l k p e b x fresh.free apart quiet body (subst (λ (z : Label). Named w.in_use w.free_symbol n.role (node ForOfStatement m (head_fields z k p e b))) same used)))
  where
    same : l ≡ by_using l
    same = λ i. record l { texts = texts i }

pub head-using-only : (n : Site) (s s' : Ledger) (x y : Spot) → HeadUsing n s x s' y → AtNodes x y
head-using-only n s s' x y (of_head a b c d e) = tt

pub head-using-lawful : Lawful HeadUsing
head-using-lawful = nodes-only {R = HeadUsing} head-using-only head-using-nodes

pub head-using-writes : Writes HeadUsing
head-using-writes = writes-nodes {R = HeadUsing} (record { only = head-using-only; imports = imports; no_names = none; freer = grows; same_called = called; names = names })
  where
    imports : (n : Site) (s s' : Ledger) (t u : Tree) → HeadUsing n s (at_node t) s' (at_node u) → is_import u ≡ is_import t
    imports n s s' t u (of_head a b c d e) = refl

    none : (n : Site) (s s' : Ledger) (l : Label) (fs : Fields) (u : Tree) → n.role ≡ Binds Class → HeadUsing n s (at_node (node Identifier l fs)) s' (at_node u) → ⊥
    none n s s' l fs u e h = elim h [ ]

    grows : (n : Site) (s s' : Ledger) (t u : Tree) → HeadUsing n s (at_node t) s' (at_node u) → (whole_in s).free_symbol ≤ (whole_in s').free_symbol
    grows n s s' t u (of_head {w = w} a b c d e) = longer w.free_symbol 1

    called : (n : Site) (s s' : Ledger) (t u : Tree) → HeadUsing n s (at_node t) s' (at_node u) → (m : ℕ) → m < (whole_in s).free_symbol → (whole_in s').called m ≡ (whole_in s).called m
    called n s s' t u (of_head {w = w} {c = x} a b c d e) = numbered-old w.called w.free_symbol (next_name w x ∷ []) (refl, tt)

    names : (q : Text → Option ℕ → Bool) (n : Site) (s s' : Ledger) (t u : Tree) → Allows q (whole_in s) (whole_in s') → LedgerPasses q s → HeadUsing n s (at_node t) s' (at_node u) → Passes q t → Passes q u × LedgerPasses q s'
    names q n s s' t u a b (of_head {w = w} {c = x} h1 h2 h3 h4 h5) k = let it = one-new q w x a in ((tt, ((tt, (((tt, (it, (tt, tt))), tt), tt)), (k.1.1.0, ((tt, (((tt, (((tt, (k.1.0.1.0.0.1.0, (it, tt))), tt), tt)), (k.1.1.1.0, tt)), tt)), tt)))), record { pending = b.pending; this = b.this; top = b.top })
