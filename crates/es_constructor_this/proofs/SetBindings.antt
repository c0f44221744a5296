-- A name for `this` that is set behind `super(..)`: names keep their bindings. What the statement that sets it finds is what the declaration declares.
use Rattle.std.proofs.Common.{arith, ◌≤◌, ◌<◌, ◌≡◌, ℕ, refl, sym, ap, subst, ◌∙◌, List, [], ◌∷◌, ◌++◌}
use Rattle.std.specs.Prelude.{Bool, true, false, not, ◌||◌, Option, Some, None, is_some, if◌then◌else◌}
use Rattle.std.specs.List.{list_all, list_any}
use Rattle.es_tree.specs.Names.{first_text}
use Rattle.es_tree.specs.Tree.{Tree, node, Label, Fields, Field, Trees, ◌before◌}
use Rattle.es_tree.specs.Words.{Text}
use Rattle.es_tree.specs.declared.ast_type.AstType.TheVariants.{FunctionBody, Identifier, VariableDeclaration}
use Rattle.es_semantic.specs.RolesOf.{binding_of, reads, role_at}
use Rattle.es_semantic.specs.SymbolsOf.{hoists}
use Rattle.es_semantic.specs.declared.place.Role.{Role}
use Rattle.es_semantic.specs.declared.place.Role.TheVariants.{Binds, Top}
use Rattle.es_semantic.specs.declared.place.Binding.TheVariants.{Class}
use Rattle.es_resolution.specs.Called.{Called}
use Rattle.es_resolution.specs.Declarations.{Bound, declared, declared_among, declared_by, sought, symbol_of}
use Rattle.es_resolution.specs.Named.{Named}
use Rattle.es_resolution.specs.Resolved.{Place, ResolvedAll, bound_by, frame, no_name, or_around, place_in, var_frame}
use Rattle.es_resolution.specs.Single.{binds, is_var_of, one_if, own_binds, scopes_with}
use Rattle.es_steps.specs.Identifiers.{Passes}
use Rattle.es_steps.specs.Nodes.{identifier}
use Rattle.es_steps.specs.Open.{is_import}
use Rattle.es_steps.specs.Patterns.{no_name_of}
use Rattle.es_steps.specs.Steps.{Ledger, Site, Whole}
use Rattle.es_steps.specs.Steps.Spot.{at_node}
use Rattle.es_steps.proofs.FormParts.{and-left}
use Rattle.es_steps.proofs.Kept.{Agree, Kept, SameParameters}
use Rattle.es_steps.proofs.Kept.Change.{sealed}
use Rattle.es_steps.proofs.RuleLaws.{called-only}
use Rattle.es_steps.proofs.RulesWrite.{writes-nodes}
use Rattle.es_steps.proofs.Stays.{stand-all}
use Rattle.es_steps.proofs.Taken.{Allows, Lawful, LedgerPasses, NodesKept, Outcome, Writes, at-least, nothing_new, whole_in}
use Rattle.es_steps.proofs.Written.{nil-right}
use Rattle.es_set_this.specs.ConstructorThis.{is_var, without_value}
use Rattle.es_constructor_this.specs.SetRows.{DeclaresThis, Puts, SetRow, body_with, names_apart}
use Rattle.es_constructor_this.specs.SetRows.DeclaresThis.{declares_this}
use Rattle.es_constructor_this.specs.SetRows.SetRow.{sets, settles}
use Rattle.es_constructor_this.proofs.Moved.{settled-star, starred}
use Rattle.es_constructor_this.proofs.MovedTexts.{IsSymbol, PassesIt, moved-passes, puts-declared, puts-pass}
use Rattle.es_constructor_this.proofs.SetForms.{one-known}
use Rattle.es_constructor_this.proofs.SetPlaces.{is-var}
use Rattle.es_constructor_this.proofs.SetShapes.{bare, body_list, set-only, valued}
use Rattle.es_constructor_this.proofs.SettledBindings.{settled-kept}
use Rattle.es_constructor_this.proofs.SuperBindings.{none-more, nothing-taken, puts-named, puts-resolved, puts-scopes, stand-by}

-- NAMES that a body doesn't declare otherwise

none-bound : (bs : List Bound) (y : Text) → not (bound_by bs y) ≡ true → sought bs y ≡ None
none-bound bs y e = at (sought bs y) e
  where
    at : (o : Option (Option ℕ)) → not (is_some o) ≡ true → o ≡ None
    at None e = refl
    at (Some s) e = absurd (cc e)

first-passes : (q : Bound → Bool) (c : Bool) (b : Bound) (bs : List Bound) → c ≡ true → list_all q ((((((if c then b ∷ [] else []) ++ []) ++ []) ++ []) ++ []) ++ bs) ≡ true → q b ≡ true
first-passes q c b bs e h = and-left (q b) (list_all q bs) (subst (λ (a : Bool). list_all q ((((((if a then b ∷ [] else []) ++ []) ++ []) ++ []) ++ []) ++ bs) ≡ true) e h)

-- a place of a function's parameter, or of the body alone
same-either : (c : Bool) (z : Option (Option ℕ)) (o v : Option ℕ) → z ≡ None → (if c then o else or_around z (if c then o else v)) ≡ or_around z (if c then o else v)
same-either true z o v e = sym (λ i. or_around (e i) o)
same-either false z o v e = refl

-- what the declaration declares
abbrev first_bound : Label → Bound
first_bound i = record { name = first_text i.texts; symbol = symbol_of i }

-- THE BODY

module _ (n : Site) (w : Whole) (l : Label) (ds : Field) (m k i h : Label) (ts us : Trees) (var : is_var m.texts ≡ true) (p : Puts (identifier (first_bound i)) ts us) where
  abbrev declares : Tree
  declares = node VariableDeclaration m (valued k i h)

  abbrev left : Tree
  left = node VariableDeclaration m (bare k i)

  abbrev old : Fields
  old = body_list ds declares ts

  abbrev new : Fields
  new = body_list ds left us

  abbrev the_roles : ℕ → Role
  the_roles = role_at n.role FunctionBody l old

  -- `var` hoists
  hoisted : hoists (binding_of (first_text m.texts)) ≡ true
  hoisted = ap (λ xs. hoists (binding_of (first_text xs))) (is-var m.texts var)

  first-declared : (v : Bool) → declared v Top left ≡ declared v Top declares
  first-declared true = refl
  first-declared false = refl

  lists : (v : Bool) → declared_among v Top (left before us) ≡ declared_among v Top (declares before ts)
  lists v = λ j. first-declared v j ++ puts-declared v Top (first_bound i) p j

  frames-same : frame FunctionBody l the_roles new ≡ frame FunctionBody l the_roles old
  frames-same = λ j. declared_by false reads ds ++ (lists false j ++ [])

  vars-same : var_frame the_roles new ≡ var_frame the_roles old
  vars-same = λ j. declared_by true reads ds ++ (lists true j ++ [])

  abbrev earlier_at : Place → ℕ → Place
  earlier_at o j = place_in o FunctionBody l the_roles old j

  abbrev later_at : Place → ℕ → Place
  later_at q j = place_in q FunctionBody l the_roles new j

  -- the body doesn't declare the name otherwise
  not-otherwise : names_apart old ≡ true → sought (frame FunctionBody l the_roles new) (first_text i.texts) ≡ None
  not-otherwise apart =
      let lexical = declared_by false reads ds ++ declared_among false Top (declares before ts) in
      let none = none-bound lexical (first_text i.texts) (first-passes (no_name_of lexical) (hoists (binding_of (first_text m.texts))) (first_bound i) (declared_among true Top ts) hoisted apart) in
      (λ j. sought (frames-same j) (first_text i.texts)) ∙ (λ j. sought (declared_by false reads ds ++ nil-right (declared_among false Top (declares before ts)) j) (first_text i.texts)) ∙ none

  count-same : (s : ℕ) (z : Text → Bool) → scopes_with s z n.role (node FunctionBody l new) ≡ scopes_with s z n.role (node FunctionBody l old)
  count-same s z =
      let a : one_if (own_binds s z FunctionBody l the_roles new) ≡ one_if (own_binds s z FunctionBody l the_roles old) = (λ j. one_if (binds s (frames-same j) || list_any (is_var_of s z) (vars-same j))) in
      let b = puts-scopes s no_name Top (first_bound i) p in
      omega arith

  module _ (o q : Place) (g : Agree (nothing_new w) o q) (same_parameters : SameParameters sealed (nothing_new w) o q) where
    inner-agrees : (y : Text) → w.in_use y ≡ true → (later_at q 1).scope y ≡ (earlier_at o 1).scope y
    inner-agrees y u = λ j. or_around (sought (frames-same j) y) (if same_parameters.used y u j then g.scope y u j else or_around (sought (vars-same j) y) (g.scope y u j))

    hoist-agrees : (y : Text) → w.in_use y ≡ true → (later_at q 1).hoist y ≡ (earlier_at o 1).hoist y
    hoist-agrees y u = λ j. if same_parameters.used y u j then g.scope y u j else inner-agrees y u j

    -- the name finds from the statements what its declaration declares
    name-found : names_apart old ≡ true → (later_at q 1).hoist (first_text i.texts) ≡ (later_at q 1).scope (first_text i.texts)
    name-found apart = same-either (q.parameters (first_text i.texts)) (sought (frame FunctionBody l the_roles new) (first_text i.texts)) (q.scope (first_text i.texts)) (or_around (sought (var_frame the_roles new) (first_text i.texts)) (q.scope (first_text i.texts))) (not-otherwise apart)

    list-resolved : names_apart old ≡ true → ResolvedAll Top (later_at q 1) (declares before ts) → ResolvedAll Top (later_at q 1) (left before us)
    list-resolved apart d =
        let declarator = d.0.2.0.0 in
        let at_declaration = subst (λ (c : Bool). symbol_of i ≡ (if c then (later_at q 1).hoist (first_text i.texts) else (later_at q 1).scope (first_text i.texts))) hoisted declarator.2.0.0.0 in
        ((d.0.0, d.0.1, (((declarator.0, declarator.1, (declarator.2.0, (tt, tt))), tt), tt)), puts-resolved Top (later_at q 1) (first_bound i) p (at_declaration ∙ name-found apart) d.1)

  set-kept : names_apart old ≡ true → Named w.in_use w.free_symbol n.role (node FunctionBody l old) → Kept (nothing_new w) n.names sealed n.role (node FunctionBody l old) (node FunctionBody l new)
  set-kept apart used =
      let declaration = used.1.1.0.0 in
      let declarator = declaration.1.0.0 in
      record {
        kind = refl;
        top = λ e. (λ f. absurd (cc f), λ f. absurd (cc f));
        own = refl;
        lexical = refl;
        hoisted = refl;
        named = (used.0, (used.1.0, (((declaration.0, (((declarator.0, (declarator.1.0, (tt, tt))), tt), tt)), puts-named w.in_use w.free_symbol Top (first_bound i) p declarator.1.0 used.1.1.0.1), tt)));
        scopes = λ s z d. count-same s z;
        new_scopes = none-more w n.role (node FunctionBody l old) (node FunctionBody l new) used count-same;
        resolved = λ o q g z v looks d.
            let params = z refl in
            let directives = stand-by w.in_use w.free_symbol reads (earlier_at o 0) (later_at q 0) (inner-agrees o q g params) (hoist-agrees o q g params) (λ y u. refl) ds used.1.0 d.2.0 in
            let list = stand-all w.in_use w.free_symbol Top (earlier_at o 1) (later_at q 1) (inner-agrees o q g params) (hoist-agrees o q g params) (λ y u. refl) (declares before ts) used.1.1.0 d.2.1.0 in
            (tt, refl, (directives, (list-resolved o q g params apart list, tt)));
      }

list-kept : (n : Site) (w : Whole) (b : Bound) (l : Label) (ds : Field) (d : Tree) (ts us : Trees) → DeclaresThis b d → Puts (identifier b) ts us → names_apart (body_list ds d ts) ≡ true → Named w.in_use w.free_symbol n.role (body_with l ds (d before ts)) → Kept (nothing_new w) n.names sealed n.role (body_with l ds (d before ts)) (body_with l ds (without_value d before us))
list-kept n w b l ds _ ts us (declares_this m k i h var e) p apart used = set-kept n w l ds m k i h ts us var (subst (λ (c : Bound). Puts (identifier c) ts us) e p) apart used

-- the name of the declaration
symbol-declared : (f : ℕ → Text) (b : Bound) (d : Tree) → DeclaresThis b d → Called f d → IsSymbol f b
symbol-declared f b _ (declares_this m k i h var e) c = subst (λ (x : Bound). IsSymbol f x) (sym e) c.1.0.0.1.0.0

name-passes : (q : Text → Option ℕ → Bool) (b : Bound) (d : Tree) → DeclaresThis b d → Passes q d → PassesIt q b
name-passes q b _ (declares_this m k i h var e) c = subst (λ (x : Bound). PassesIt q x) (sym e) c.1.0.0.1.0.0

left-passes : (q : Text → Option ℕ → Bool) (b : Bound) (d : Tree) → DeclaresThis b d → Passes q d → Passes q (without_value d)
left-passes q b _ (declares_this m k i h var e) c = (tt, (((tt, (c.1.0.0.1.0, (tt, tt))), tt), tt))

-- THE ROWS

pub set-lawful : Lawful SetRow
set-lawful = called-only {R = SetRow} set-only nodes
  where
    nodes : (n : Site) (s s' : Ledger) (t u : Tree) → SetRow n s (at_node t) s' (at_node u) → Named (whole_in s).in_use (whole_in s).free_symbol n.role t → Called (whole_in s).called t → Outcome (NodesKept n t u) s s'
    nodes n s s' t u (settles {w = w} {q = q} {a = a} b l ds d ts us here first h) used called = nothing-taken n s t u (settled-kept n w q a b l ds d ts us (symbol-declared w.called b d first called.1.1.0.0) h used called)
    nodes n s s' t u (sets b l ds d ts us here apart first p) used called = nothing-taken n s t u (list-kept n (whole_in s) b l ds d ts us first p apart used)

pub set-writes : Writes SetRow
set-writes = writes-nodes {R = SetRow} (record { only = set-only; imports = imports; no_names = none; freer = grows; same_called = called; names = names })
  where
    imports : (n : Site) (s s' : Ledger) (t u : Tree) → SetRow n s (at_node t) s' (at_node u) → is_import u ≡ is_import t
    imports n s s' t u (settles b l ds d ts us here first h) = refl
    imports n s s' t u (sets b l ds d ts us here apart first p) = refl

    none : (n : Site) (s s' : Ledger) (l : Label) (fs : Fields) (u : Tree) → n.role ≡ Binds Class → SetRow n s (at_node (node Identifier l fs)) s' (at_node u) → ⊥
    none n s s' l fs u e h = elim h [ ]

    grows : (n : Site) (s s' : Ledger) (t u : Tree) → SetRow n s (at_node t) s' (at_node u) → (whole_in s).free_symbol ≤ (whole_in s').free_symbol
    grows n s s' t u (settles b l ds d ts us here first h) = at-least (whole_in s).free_symbol
    grows n s s' t u (sets b l ds d ts us here apart first p) = at-least (whole_in s).free_symbol

    called : (n : Site) (s s' : Ledger) (t u : Tree) → SetRow n s (at_node t) s' (at_node u) → (x : ℕ) → x < (whole_in s).free_symbol → (whole_in s').called x ≡ (whole_in s).called x
    called n s s' t u (settles b l ds d ts us here first h) x e = refl
    called n s s' t u (sets b l ds d ts us here apart first p) x e = refl

    names : (q : Text → Option ℕ → Bool) (n : Site) (s s' : Ledger) (t u : Tree) → Allows q (whole_in s) (whole_in s') → LedgerPasses q s → SetRow n s (at_node t) s' (at_node u) → Passes q t → Passes q u × LedgerPasses q s'
    names q n s s' t u x c (settles b l ds d ts us here first h) k = (starred (λ (y : Tree). Passes q y) (λ y z m g. moved-passes q y z m g) (body_with l ds (d before ts)) (body_with l ds (d before us)) (settled-star l ds d (PassesIt q) ts us h (one-known (PassesIt q) b (name-passes q b d first k.1.1.0.0))) k, c)
    names q n s s' t u x c (sets b l ds d ts us here apart first p) k = ((tt, (k.1.0, ((left-passes q b d first k.1.1.0.0, puts-pass q b (name-passes q b d first k.1.1.0.0) p k.1.1.0.1), tt))), c)
