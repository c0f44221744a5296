-- Inside a statement of the body of a constructor: names keep their bindings where a call of `super` is followed, and where the statement that sets the
-- name is put behind another. What the name finds there is told with each row.
use Rattle.std.proofs.Common.{arith, ◌≤◌, ◌<◌, ◌≡◌, ℕ, refl, sym, subst, ◌∙◌, ◌+◌, [], ◌++◌}
use Rattle.std.specs.Prelude.{Bool, true, false, ◌||◌, Option, codes}
use Rattle.es_tree.specs.Tree.{Tree, node, Label, Fields, done, ◌then◌, Field, statements, Trees}
use Rattle.es_tree.specs.Words.{Text}
use Rattle.es_tree.specs.declared.ast_type.AstType.TheVariants.{BlockStatement, CallExpression, Identifier, SwitchCase}
use Rattle.es_semantic.specs.RolesOf.{reads, role_at, target_of}
use Rattle.es_semantic.specs.declared.place.Role.{Role}
use Rattle.es_semantic.specs.declared.place.Role.TheVariants.{Binds}
use Rattle.es_semantic.specs.declared.place.Binding.TheVariants.{Class}
use Rattle.es_resolution.specs.Declarations.{Bound, sought}
use Rattle.es_resolution.specs.Named.{IsBelow, Named, NamedAll, NamedBy}
use Rattle.es_resolution.specs.Resolved.{Place, ResolvedAll, ResolvedBy, frame, no_name, or_around, place_in}
use Rattle.es_resolution.specs.Single.{binds, one_if, own_binds, scopes_among, scopes_with}
use Rattle.es_steps.specs.Identifiers.{Passes}
use Rattle.es_steps.specs.Nodes.{identifier}
use Rattle.es_steps.specs.Open.{is_import}
use Rattle.es_steps.specs.Steps.{Ledger, Site, Whole}
use Rattle.es_steps.specs.Steps.Spot.{at_node}
use Rattle.es_steps.proofs.Kept.{Kept, limit}
use Rattle.es_steps.proofs.Kept.Change.{sealed}
use Rattle.es_steps.proofs.RuleLaws.{nodes-only}
use Rattle.es_steps.proofs.RulesWrite.{writes-nodes}
use Rattle.es_steps.proofs.Same.{same, same-by}
use Rattle.es_steps.proofs.Scopes.{no-scopes}
use Rattle.es_steps.proofs.Stays.{stand-all, standing}
use Rattle.es_steps.proofs.Taken.{Allows, Lawful, LedgerPasses, NodesKept, Outcome, Writes, at-least, none-some, nothing_new, whole_in}
use Rattle.es_steps.proofs.Taken.Goes.{to_list}
use Rattle.es_steps.proofs.Written.{body_place}
use Rattle.es_set_this.specs.ConstructorThis.{then_set}
use Rattle.es_constructor_this.specs.SetRows.{Finds, Puts, SuperRow}
use Rattle.es_constructor_this.specs.SetRows.Puts.{behind, further, nowhere}
use Rattle.es_constructor_this.specs.SetRows.SuperRow.{after_call, in_block, in_case}
use Rattle.es_constructor_this.proofs.MovedTexts.{block-declared, case-declared, puts-declared, puts-pass, then-declared, then-passes}
use Rattle.es_constructor_this.proofs.SetShapes.{super-only}

-- THE STATEMENT that sets the name, among others

abbrev pub Sets : Role
Sets = target_of (codes "=")

first-more : (a b : ℕ) → a + (0 + b) ≡ a + b
first-more a b = omega arith

pub puts-scopes : (s : ℕ) (ps : Text → Bool) (r : Role) (b : Bound) {ts us : Trees} → Puts (identifier b) ts us → scopes_among s ps r us ≡ scopes_among s ps r ts
puts-scopes s ps r b nowhere = refl
puts-scopes s ps r b (behind {t = t} {ts = ts}) = first-more (scopes_with s ps r t) (scopes_among s ps r ts)
puts-scopes s ps r b (further {t = t} p) = λ j. scopes_with s ps r t + puts-scopes s ps r b p j

module _ (u : Text → Bool) (f : ℕ) (r : Role) (b : Bound) where
  pub puts-named : {ts us : Trees} → Puts (identifier b) ts us → Named u f Sets (identifier b) → NamedAll u f r ts → NamedAll u f r us
  puts-named nowhere k h = h
  puts-named behind k h = (h.0, (((tt, tt), (((tt, tt), (k, (((tt, tt), tt), tt))), tt)), h.1))
  puts-named (further p) k h = (h.0, puts-named p k h.1)

pub puts-resolved : (r : Role) (q : Place) (b : Bound) {ts us : Trees} → Puts (identifier b) ts us → b.symbol ≡ q.scope b.name → ResolvedAll r q ts → ResolvedAll r q us
puts-resolved r q b nowhere k h = h
puts-resolved r q b behind k h = (h.0, ((tt, refl, ((tt, refl, ((k, refl, tt), ((tt, refl, tt), tt))), tt)), h.1))
puts-resolved r q b (further p) k h = (h.0, puts-resolved r q b p k h.1)

-- what stays elsewhere
pub stand-by : (u : Text → Bool) (f : ℕ) (r : Role) (o q : Place) → ((y : Text) → u y ≡ true → q.scope y ≡ o.scope y) → ((y : Text) → u y ≡ true → q.hoist y ≡ o.hoist y) → ((y : Text) → u y ≡ true → q.parameters y ≡ o.parameters y) → (x : Field) → NamedBy u f r x → ResolvedBy r o x → ResolvedBy r q x
stand-by u f r o q a b c x used d = (same-by (standing u f) o r x used).resolved o q (record { scope = a; hoist = b }) (record { used = c; new = λ g y s e. absurd (none-some s e) }) tt (record { scope = refl; parameters = λ e. refl }) d

pub no-more : (a b : ℕ) → a ≡ 0 → a ≤ b
no-more a b e = omega arith

-- no more scopes bind a new symbol, where as many bind each
pub none-more : (w : Whole) (r : Role) (t u : Tree) → Named w.in_use w.free_symbol r t → ((s : ℕ) (ps : Text → Bool) → scopes_with s ps r u ≡ scopes_with s ps r t) → (s : ℕ) (ps : Text → Bool) → w.free_symbol ≤ s → scopes_with s ps r u ≤ limit sealed (nothing_new w) s
none-more w r t u used counts s ps d = no-more (scopes_with s ps r u) (limit sealed (nothing_new w) s) (counts s ps ∙ no-scopes w.in_use w.free_symbol s d ps r t used)

-- THE NAME, where it finds its binding

module _ (w : Whole) (b : Bound) (p : Place) (finds : Finds w b p) where
  name-named : Named w.in_use w.free_symbol Sets (identifier b)
  name-named = ((finds.used, subst (λ (o : Option ℕ). IsBelow w.free_symbol o) (sym finds.has) finds.below), tt)

  name-found : (x : Option ℕ) → x ≡ p.scope b.name → b.symbol ≡ x
  name-found x e = finds.has ∙ sym (e ∙ finds.found)

-- A CALL that is followed

module _ (b_place : Place) (w : Whole) (b : Bound) (l : Label) (fs : Fields) (finds : Finds w b b_place) (used : Named w.in_use w.free_symbol reads (node CallExpression l fs)) where
  abbrev call : Tree
  call = node CallExpression l fs

  call-counts : (s : ℕ) (ps : Text → Bool) → scopes_with s ps reads (then_set (identifier b) l fs) ≡ scopes_with s ps reads call
  call-counts s ps = last (scopes_with s ps reads call)
    where
      last : (a : ℕ) → 0 + 0 + (a + (0 + 0) + 0) ≡ a
      last a = omega arith

  call-kept : Kept (nothing_new w) b_place sealed reads call (then_set (identifier b) l fs)
  call-kept = record {
    kind = refl;
    top = λ e. (λ f. absurd (cc f), λ f. absurd (cc f));
    own = refl;
    lexical = then-declared false reads b l fs;
    hoisted = then-declared true reads b l fs;
    named = ((tt, tt), ((used, (((tt, tt), (name-named w b b_place finds, (((tt, tt), tt), tt))), tt)), tt));
    scopes = λ s ps e. call-counts s ps;
    new_scopes = none-more w reads call (then_set (identifier b) l fs) used call-counts;
    resolved = λ p q g z v looks d. (
      tt,
      refl,
      (
        (
          (same (nothing_new w) p reads call used).resolved p (body_place q) (record { scope = g.scope; hoist = g.hoist }) (λ e. absurd (cc e)) tt (record { scope = refl; parameters = λ e. refl }) d,
          ((tt, refl, ((name-found w b b_place finds (q.scope b.name) (g.scope b.name finds.used ∙ (λ i. looks.scope i b.name)), refl, tt), ((tt, refl, tt), tt))), tt),
        ),
        tt,
      ),
    );
  }

-- A BLOCK

module _ (n : Site) (w : Whole) (b : Bound) (l : Label) (ts us : Trees) (p : Puts (identifier b) ts us) where
  abbrev old_block : Fields
  old_block = statements ts then done

  abbrev new_block : Fields
  new_block = statements us then done

  abbrev block_roles : ℕ → Role
  block_roles = role_at n.role BlockStatement l old_block

  block-frames : frame BlockStatement l block_roles new_block ≡ frame BlockStatement l block_roles old_block
  block-frames = λ j. puts-declared false (block_roles 0) b p j ++ []

  block-counts : (s : ℕ) (ps : Text → Bool) → scopes_with s ps n.role (node BlockStatement l new_block) ≡ scopes_with s ps n.role (node BlockStatement l old_block)
  block-counts s ps =
      let a : one_if (own_binds s ps BlockStatement l block_roles new_block) ≡ one_if (own_binds s ps BlockStatement l block_roles old_block) = (λ j. one_if (binds s (block-frames j) || false)) in
      let c = puts-scopes s no_name (block_roles 0) b p in
      omega arith

  module _ (finds : Finds w b (place_in n.names BlockStatement l block_roles old_block 0)) (used : Named w.in_use w.free_symbol n.role (node BlockStatement l old_block)) where
    abbrev before_at : Place → Place
    before_at o = place_in o BlockStatement l block_roles old_block 0

    abbrev after_at : Place → Place
    after_at q = place_in q BlockStatement l block_roles new_block 0

    block-kept : Kept (nothing_new w) n.names sealed n.role (node BlockStatement l old_block) (node BlockStatement l new_block)
    block-kept = record {
      kind = refl;
      top = λ e. (λ f. absurd (cc f), λ f. absurd (cc f));
      own = refl;
      lexical = block-declared false n.role b l ts us p;
      hoisted = block-declared true n.role b l ts us p;
      named = (used.0, (puts-named w.in_use w.free_symbol (block_roles 0) b p (name-named w b (before_at n.names) finds) used.1.0, tt));
      scopes = λ s ps e. block-counts s ps;
      new_scopes = none-more w n.role (node BlockStatement l old_block) (node BlockStatement l new_block) used block-counts;
      resolved = λ o q g z v looks d.
          let agrees : (y : Text) → w.in_use y ≡ true → (after_at q).scope y ≡ (before_at o).scope y = (λ y u j. or_around (sought (block-frames j) y) (g.scope y u j)) in
          let list = stand-all w.in_use w.free_symbol (block_roles 0) (before_at o) (after_at q) agrees g.hoist (λ y u. refl) ts used.1.0 d.2.0 in
          let found = name-found w b (before_at n.names) finds ((after_at q).scope b.name) (agrees b.name finds.used ∙ (λ j. or_around (sought (frame BlockStatement l block_roles old_block) b.name) (looks.scope j b.name))) in
          (tt, refl, (puts-resolved (block_roles 0) (after_at q) b p found list, tt));
    }

-- A CASE of a `switch`

module _ (n : Site) (w : Whole) (b : Bound) (l : Label) (f : Field) (ts us : Trees) (p : Puts (identifier b) ts us) where
  abbrev old_case : Fields
  old_case = f then statements ts then done

  abbrev new_case : Fields
  new_case = f then statements us then done

  abbrev case_roles : ℕ → Role
  case_roles = role_at n.role SwitchCase l old_case

  case-counts : (s : ℕ) (ps : Text → Bool) → scopes_with s ps n.role (node SwitchCase l new_case) ≡ scopes_with s ps n.role (node SwitchCase l old_case)
  case-counts s ps = let c = puts-scopes s no_name (case_roles 1) b p in omega arith

  module _ (finds : Finds w b (place_in n.names SwitchCase l case_roles old_case 1)) (used : Named w.in_use w.free_symbol n.role (node SwitchCase l old_case)) where
    case-kept : Kept (nothing_new w) n.names sealed n.role (node SwitchCase l old_case) (node SwitchCase l new_case)
    case-kept = record {
      kind = refl;
      top = λ e. (λ f. absurd (cc f), λ f. absurd (cc f));
      own = refl;
      lexical = case-declared false n.role b l f ts us p;
      hoisted = case-declared true n.role b l f ts us p;
      named = (used.0, (used.1.0, (puts-named w.in_use w.free_symbol (case_roles 1) b p (name-named w b (place_in n.names SwitchCase l case_roles old_case 1) finds) used.1.1.0, tt)));
      scopes = λ s ps e. case-counts s ps;
      new_scopes = none-more w n.role (node SwitchCase l old_case) (node SwitchCase l new_case) used case-counts;
      resolved = λ o q g z v looks d.
          let test = stand-by w.in_use w.free_symbol (case_roles 0) (place_in o SwitchCase l case_roles old_case 0) (place_in q SwitchCase l case_roles new_case 0) g.scope g.hoist (λ y u. refl) f used.1.0 d.2.0 in
          let list = stand-all w.in_use w.free_symbol (case_roles 1) (place_in o SwitchCase l case_roles old_case 1) (place_in q SwitchCase l case_roles new_case 1) g.scope g.hoist (λ y u. refl) ts used.1.1.0 d.2.1.0 in
          let found = name-found w b (place_in n.names SwitchCase l case_roles old_case 1) finds (q.scope b.name) (g.scope b.name finds.used ∙ (λ j. looks.scope j b.name)) in
          (tt, refl, (test, (puts-resolved (case_roles 1) (place_in q SwitchCase l case_roles new_case 1) b p found list, tt)));
    }

-- THE ROWS

pub nothing-taken : (n : Site) (s : Ledger) (t u : Tree) → Kept (nothing_new (whole_in s)) n.names sealed n.role t u → Outcome (NodesKept n t u) s s
nothing-taken n s t u h = record { given = []; change = sealed; goes = to_list; more = λ y h. h; freer = at-least (whole_in s).free_symbol; range = tt; fresh = λ y o e. absurd (none-some o e); sound = tt; beside = record { pending = refl; this = refl; top = refl }; kept = h }

pub super-lawful : Lawful SuperRow
super-lawful = nodes-only {R = SuperRow} super-only nodes
  where
    nodes : (n : Site) (s s' : Ledger) (t u : Tree) → SuperRow n s (at_node t) s' (at_node u) → Named (whole_in s).in_use (whole_in s).free_symbol n.role t → Outcome (NodesKept n t u) s s'
    nodes n s s' t u (after_call {w = w} b l fs role calls chain finds) used = nothing-taken n s t u (subst (λ (r : Role). Kept (nothing_new w) n.names sealed r t u) (sym role) (call-kept n.names w b l fs finds (subst (λ (r : Role). Named w.in_use w.free_symbol r t) role used)))
    nodes n s s' t u (in_block {w = w} b l ts us p finds) used = nothing-taken n s t u (block-kept n w b l ts us p finds used)
    nodes n s s' t u (in_case {w = w} b l f ts us p finds) used = nothing-taken n s t u (case-kept n w b l f ts us p finds used)

pub super-writes : Writes SuperRow
super-writes = writes-nodes {R = SuperRow} (record { only = super-only; imports = imports; no_names = none; freer = grows; same_called = called; names = names })
  where
    imports : (n : Site) (s s' : Ledger) (t u : Tree) → SuperRow n s (at_node t) s' (at_node u) → is_import u ≡ is_import t
    imports n s s' t u (after_call b l fs role calls chain finds) = refl
    imports n s s' t u (in_block b l ts us p finds) = refl
    imports n s s' t u (in_case b l f ts us p finds) = refl

    none : (n : Site) (s s' : Ledger) (l : Label) (fs : Fields) (u : Tree) → n.role ≡ Binds Class → SuperRow n s (at_node (node Identifier l fs)) s' (at_node u) → ⊥
    none n s s' l fs u e h = elim h [ ]

    grows : (n : Site) (s s' : Ledger) (t u : Tree) → SuperRow n s (at_node t) s' (at_node u) → (whole_in s).free_symbol ≤ (whole_in s').free_symbol
    grows n s s' t u (after_call b l fs role calls chain finds) = at-least (whole_in s).free_symbol
    grows n s s' t u (in_block b l ts us p finds) = at-least (whole_in s).free_symbol
    grows n s s' t u (in_case b l f ts us p finds) = at-least (whole_in s).free_symbol

    called : (n : Site) (s s' : Ledger) (t u : Tree) → SuperRow n s (at_node t) s' (at_node u) → (x : ℕ) → x < (whole_in s).free_symbol → (whole_in s').called x ≡ (whole_in s).called x
    called n s s' t u (after_call b l fs role calls chain finds) x e = refl
    called n s s' t u (in_block b l ts us p finds) x e = refl
    called n s s' t u (in_case b l f ts us p finds) x e = refl

    names : (q : Text → Option ℕ → Bool) (n : Site) (s s' : Ledger) (t u : Tree) → Allows q (whole_in s) (whole_in s') → LedgerPasses q s → SuperRow n s (at_node t) s' (at_node u) → Passes q t → Passes q u × LedgerPasses q s'
    names q n s s' t u a c (after_call b l fs role calls chain finds) k = (then-passes q b l fs c.this k, c)
    names q n s s' t u a c (in_block b l ts us p finds) k = ((tt, (puts-pass q b c.this p k.1.0, tt)), c)
    names q n s s' t u a c (in_case b l f ts us p finds) k = ((tt, (k.1.0, (puts-pass q b c.this p k.1.1.0, tt))), c)
