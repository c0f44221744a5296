-- The laws of the removal: its rule puts one statement without names in the place of another, and no step makes a node a `debugger;`.
use Rattle.std.proofs.Common.{◌≡◌, ◌≤◌, ◌<◌, ℕ, Bool, true, false, true≢false, refl, sym, inl, arith, Option, []}
use Rattle.std.specs.Prelude.{◌||◌, not}
use Rattle.es_tree.specs.HasForm.{has_form, is_of_sort}
use Rattle.es_tree.specs.Tree.{Tree, node, Label, Fields, done}
use Rattle.es_tree.specs.Words.{Text}
use Rattle.es_tree.specs.declared.ast_type.AstType.{AstType}
use Rattle.es_tree.specs.declared.ast_type.AstType.TheVariants.{DebuggerStatement, EmptyStatement, Identifier}
use Rattle.es_tree.specs.declared.table.Sort.{Sort}
use Rattle.es_tree.specs.declared.table.Sort.TheVariants.{Expression as s-Expression}
use Rattle.es_tree.proofs.NodeForm.{has_form-node, node_form}
use Rattle.es_semantic.specs.declared.place.Binding.TheVariants.{Class}
use Rattle.es_semantic.specs.declared.place.Role.TheVariants.{Binds}
use Rattle.es_resolution.specs.Named.{Named}
use Rattle.es_steps.specs.Identifiers.{Passes}
use Rattle.es_steps.specs.Open.{is_import}
use Rattle.es_steps.specs.Sites.{AreAlike}
use Rattle.es_steps.specs.Slots.{is_slot}
use Rattle.es_steps.specs.Steps.{Ledger, Site, Spot, at_node}
use Rattle.es_steps.proofs.FormRules.{FormLawful, NodeFormed, nothing-new}
use Rattle.es_steps.proofs.Kept.Change.{sealed}
use Rattle.es_steps.proofs.RuleLaws.{AtNodes, nodes-only}
use Rattle.es_steps.proofs.RulesWrite.{writes-nodes}
use Rattle.es_steps.proofs.Taken.{Allows, Lawful, LedgerPasses, NodesKept, Outcome, Writes, at-least, none-some, whole_in}
use Rattle.es_steps.proofs.Taken.Goes.{to_list}
use Rattle.es_changes.specs.Rules.{IsLawfulRule, is_asked_for}
use Rattle.es_visit.specs.Hooks.{IsHooked}
use Rattle.es_visit.specs.declared.hook.Hook.{Hook}
use Rattle.es_visit.specs.declared.hook.Hook.TheVariants.{Statement}
use Rattle.es_traverse.specs.Laws.{IsLawful, acts_inward}
use Rattle.visit_example.specs.Removals.{Removing, debugger_constructs, removal}
use Rattle.visit_example.specs.Removals.Removing.{removes}

-- THE RULE

removes_nodes : (n : Site) (s s' : Ledger) (x y : Spot) → Removing n s x s' y → AtNodes x y
removes_nodes n s s' x y removes = tt

-- each name keeps its binding
removing_names : Lawful Removing
removing_names = nodes-only {R = Removing} removes_nodes nodes
  where
    nodes : (n : Site) (s s' : Ledger) (t u : Tree) → Removing n s (at_node t) s' (at_node u) → Named (whole_in s).in_use (whole_in s).free_symbol n.role t → Outcome (NodesKept n t u) s s'
    nodes n s s' t u removes used = record {
      given = [];
      change = sealed;
      goes = to_list;
      more = λ y h. h;
      freer = at-least (whole_in s).free_symbol;
      range = tt;
      fresh = λ y o e. absurd (none-some o e);
      sound = tt;
      beside = record { pending = refl; this = refl; top = refl };
      kept = record {
        kind = refl;
        top = λ e. absurd (true≢false (sym e));
        own = refl;
        lexical = refl;
        hoisted = refl;
        named = used;
        scopes = λ i ps e. refl;
        new_scopes = λ i ps e. omega arith;
        resolved = λ p q agree same sees looks h. h;
      };
    }

-- no name is written
removing_writes : Writes Removing
removing_writes = writes-nodes {R = Removing} (record { only = removes_nodes; imports = imports; no_names = none; freer = grows; same_called = called; names = names })
  where
    imports : (n : Site) (s s' : Ledger) (t u : Tree) → Removing n s (at_node t) s' (at_node u) → is_import u ≡ is_import t
    imports n s s' t u removes = refl

    none : (n : Site) (s s' : Ledger) (l : Label) (fs : Fields) (u : Tree) → n.role ≡ Binds Class → Removing n s (at_node (node Identifier l fs)) s' (at_node u) → ⊥
    none n s s' l fs u e h = elim h [ ]

    grows : (n : Site) (s s' : Ledger) (t u : Tree) → Removing n s (at_node t) s' (at_node u) → (whole_in s).free_symbol ≤ (whole_in s').free_symbol
    grows n s s' t u removes = at-least (whole_in s).free_symbol

    called : (n : Site) (s s' : Ledger) (t u : Tree) → Removing n s (at_node t) s' (at_node u) → (m : ℕ) → m < (whole_in s).free_symbol → (whole_in s').called m ≡ (whole_in s).called m
    called n s s' t u removes m e = refl

    names : (q : Text → Option ℕ → Bool) (n : Site) (s s' : Ledger) (t u : Tree) → Allows q (whole_in s) (whole_in s') → LedgerPasses q s → Removing n s (at_node t) s' (at_node u) → Passes q t → Passes q u × LedgerPasses q s'
    names q n s s' t u a b removes k = (k, b)

-- a `;` may stand wherever a `debugger;` may
stands_alike : (a : Sort) → (not (is_of_sort a DebuggerStatement) || is_of_sort a EmptyStatement) ≡ true
stands_alike s-Expression = refl
stands_alike _ = refl

or_second : (x y : Bool) → (not x || y) ≡ true → x ≡ true → y ≡ true
or_second true y h e = h
or_second false y h e = absurd (true≢false (sym e))

removing_form : FormLawful Removing
removing_form = record {
  at_nodes = nodes;
  no_flanks = λ n s s' t u bs cs h. removes_nodes n s s' _ _ h;
  at_lists = λ n s s' p q x y a b ts us h k. absurd (removes_nodes n s s' _ _ h);
  at_bodies = λ n s s' p t u h. absurd (removes_nodes n s s' _ _ h);
}
  where
    nodes : (n : Site) (s s' : Ledger) (t u : Tree) (a : Sort) → (is_slot n.above ≡ true → a ≡ s-Expression) → Removing n s (at_node t) s' (at_node u) → has_form a t ≡ true → NodeFormed a s s' u
    nodes n s s' t u a slot (removes {l = l}) h =
        let f = node_form a DebuggerStatement l done h in
        record {
          formed = has_form-node a EmptyStatement l done (record { sort = or_second (is_of_sort a DebuggerStatement) (is_of_sort a EmptyStatement) (stands_alike a) f.sort; texts = f.texts; flags = f.flags; start = f.start; stop = f.stop; agree = refl; children = refl });
          names = nothing-new s s refl;
        }

pub removing_lawful : IsLawfulRule Removing
removing_lawful = record { names = removing_names; writes = removing_writes; form = removing_form; local = local }
  where
    local : (n m : Site) (s s' : Ledger) (x y : Spot) → AreAlike is_asked_for n m → Removing n s x s' y → Removing m s x s' y
    local n m s s' x y alike removes = removes

-- THE TYPE

-- it is asked of the kind alone
kept_kind : (h : Hook) (k : AstType) (l : Label) (fs gs : Fields) → debugger_constructs h k l fs ≡ false → debugger_constructs h k l gs ≡ false
kept_kind Statement DebuggerStatement l fs gs e = e
kept_kind Statement _ l fs gs e = refl
kept_kind _ k l fs gs e = refl

hooked : (h : Hook) (k : AstType) (l : Label) (fs : Fields) → debugger_constructs h k l fs ≡ true → IsHooked h k
hooked Statement DebuggerStatement l fs e = inl refl
hooked Statement _ l fs e = absurd (true≢false (sym e))
hooked _ k l fs e = absurd (true≢false (sym e))

pub removal_lawful : IsLawful removal
removal_lawful = record {
  rule = removing_lawful;
  stable = λ h n s s' k l first fs gs stand step e. kept_kind h k l _ _ e;
  placed = hooked;
  own = λ h t w. absurd w;
  outward = acts_inward removal (λ k l fs. refl) (λ n t. refl);
}
