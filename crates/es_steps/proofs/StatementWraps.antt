-- WRAP of a loop and of a `switch`.
use Rattle.std.proofs.Common.{arith, ◌≡◌, ℕ, refl, sym, ap, subst, ◌∙◌, List, [], ◌++◌}
use Rattle.std.specs.Prelude.{Bool, true, false, ◌||◌, Some, None, bytes_eq, codes}
use Rattle.es_tree.specs.Words.{Text}
use Rattle.es_tree.specs.Names.{first_text}
use Rattle.es_tree.specs.Tree.{Tree, node, Label, Field, Trees, empty, ◌before◌, kind_of}
use Rattle.es_tree.specs.declared.ast_type.AstType.TheVariants.{ForStatement, Identifier, LabeledStatement, SwitchCase, SwitchStatement, VariableDeclaration}
use Rattle.es_semantic.specs.RolesOf.{reads, binding_of}
use Rattle.es_semantic.specs.declared.place.Binding.TheVariants.{Constant}
use Rattle.es_semantic.specs.declared.place.Role.{Role}
use Rattle.es_semantic.specs.declared.place.Role.TheVariants.{Binds, Nothing}
use Rattle.es_resolution.specs.Declarations.{Bound, sought, is_var_scope, declared, declared_by, declared_among}
use Rattle.es_resolution.specs.Named.{Named, NamedBy, NamedAll}
use Rattle.es_resolution.specs.Resolved.{own_of, Place, or_around, no_name, Resolved, ResolvedBy, ResolvedAll}
use Rattle.es_resolution.specs.Single.{binds, one_if, scopes_with, scopes_among}
use Rattle.es_steps.specs.Nodes.{made}
use Rattle.es_steps.specs.Rules.{next_name}
use Rattle.es_steps.specs.Steps.{Whole, Ledger, Site, Spot, at_node}
use Rattle.es_steps.specs.UsingBlocks.{block_of, error_name, error_of, protected}
use Rattle.es_steps.specs.UsingLoops.{UsesInHead, LoopUsing}
use Rattle.es_steps.specs.UsingLoops.LoopUsing.{of_loop}
use Rattle.es_steps.specs.UsingLoops.UsesInHead.{in_head, with_label}
use Rattle.es_steps.specs.UsingSwitches.{ConstantsInCases, switch_fields, SwitchUsing}
use Rattle.es_steps.specs.UsingSwitches.ConstantsInCases.{no_case, in_case}
use Rattle.es_steps.specs.UsingSwitches.SwitchUsing.{of_switch}
use Rattle.es_resolution.proofs.Basics.{either_of, sought-append}
use Rattle.es_steps.proofs.Kept.{Known, Kept, Agree}
use Rattle.es_steps.proofs.Kept.Change.{below}
use Rattle.es_resolution.proofs.MoreNames.{own-more, named-more-by}
use Rattle.es_steps.proofs.Names.{declared-free-by, declared-free-all}
use Rattle.es_steps.proofs.RuleLaws.{AtNodes, nodes-only}
use Rattle.es_steps.proofs.Same.{same-by}
use Rattle.es_steps.proofs.Settled.{Settled, through}
use Rattle.es_steps.proofs.Stays.{standing}
use Rattle.es_steps.proofs.Taken.{whole_in, NodesKept, Outcome, Lawful, none-some}
use Rattle.es_steps.proofs.Wraps.{k, Rewritten, used-all, constants, wrapped, taking}
use Rattle.es_steps.proofs.Written.{nil-right, body_place}

-- A STATEMENT that may be put into a block

pub record IsPlain (r : Role) (t : Tree) : Type 0 where
  kind : is_var_scope (kind_of t) ≡ false
  own : own_of r t ≡ []
  declares : (v : Bool) → declared v r t ≡ declared v reads t
  none : declared false reads t ≡ []
  scopes : (s : ℕ) (ps : Text → Bool) → scopes_with s ps r t ≡ scopes_with s no_name reads t
  named : (u : Text → Bool) (f : ℕ) → Named u f r t → Named u f reads t
  resolved : (p : Place) → Resolved r p t → Resolved reads (body_place p) t

-- as the one statement of a block
abbrev pub in_block_of : Tree → Tree
in_block_of t = block_of (made [] []) (t before empty)

settled-block : (b : Place) (r : Role) (t : Tree) → IsPlain r t → Settled b r t (in_block_of t)
settled-block b r t h = record {
  kind = sym h.kind;
  own = sym h.own;
  declares = each;
  scopes = λ s ps. let a : one_if (binds s ((declared false reads t ++ []) ++ []) || false) ≡ 0 = (λ i. one_if (binds s ((h.none i ++ []) ++ []) || false)) in let c = h.scopes s ps in omega arith;
  resolved = λ p look d. (tt, refl, ((subst (λ (bs : List Bound). Resolved reads (record { scope = λ y. or_around (sought ((bs ++ []) ++ []) y) (p.scope y); hoist = p.hoist; parameters = no_name }) t) (sym h.none) (h.resolved p d), tt), tt));
}
  where
    each : (v : Bool) → declared v r (in_block_of t) ≡ declared v r t
    each true = nil-right (declared true reads t ++ []) ∙ nil-right (declared true reads t) ∙ sym (h.declares true)
    each false = sym h.none ∙ sym (h.declares false)

-- a `try` around it
module _ (w : Whole) (x : Text) (free : w.in_use x ≡ false) where
  around-statement : (b : Place) (r : Role) (t u : Tree) → bytes_eq error_name x ≡ false → IsPlain r t → Rewritten w x free reads (t before empty) (u before empty) → b.scope (codes "babelHelpers") ≡ None → w.in_use (codes "babelHelpers") ≡ true → Named w.in_use w.free_symbol r t → Kept (k w x free) b below r t (protected (next_name w x) (error_of w) (u before empty))
  around-statement b r t u other h changed helpers helpers-used used =
      through (k w x free) b below r t (in_block_of t) (protected (next_name w x) (error_of w) (u before empty)) (settled-block b r t h)
      (wrapped w x free b r (made [] []) (t before empty) (u before empty) other changed ((λ i. or_around (sought ((h.none i ++ []) ++ []) (codes "babelHelpers")) (b.scope (codes "babelHelpers"))) ∙ helpers) helpers-used ((tt, tt), ((h.named w.in_use w.free_symbol used, tt), tt)))

  abbrev z : Known
  z = k w x free

  -- what stays beside
  stand-by : (r : Role) (o q : Place) → Agree z o q → ((y : Text) → w.in_use y ≡ true → q.parameters y ≡ o.parameters y) → (f : Field) → NamedBy w.in_use w.free_symbol r f → ResolvedBy r o f → ResolvedBy r q f
  stand-by r o q a ps f used d = (same-by (standing w.in_use w.free_symbol) o r f used).resolved o q (record { scope = a.scope; hoist = a.hoist }) (record { used = ps; new = λ g y o e. absurd (none-some o e) }) tt (record { scope = refl; parameters = λ e. refl }) d

  more-by : (r : Role) (f : Field) → NamedBy w.in_use w.free_symbol r f → NamedBy z.in_use_after z.free_after r f
  more-by r f h = named-more-by w.in_use z.in_use_after z.more w.free_symbol z.free_after z.freer r f h

  no-names : (bs : List Bound) (y : Text) → sought bs y ≡ None → (cs : List Bound) → sought cs y ≡ None → sought (bs ++ cs) y ≡ None
  no-names bs y e cs d = sought-append bs cs y ∙ (λ i. either_of (e i) (d i))

  -- LOOPS

  abbrev head_list : List Bound → Field → Field → Field → List Bound
  head_list bs f g h = (bs ++ []) ++ (declared_by false reads f ++ (declared_by false reads g ++ (declared_by false reads h ++ [])))

  abbrev loop_place : Place → List Bound → Field → Field → Field → Place
  loop_place o bs f g h = record { scope = λ y. or_around (sought (head_list bs f g h) y) (o.scope y); hoist = o.hoist; parameters = no_name }

  uses-in-head : (t u : Tree) → UsesInHead (next_name w x) t u → Rewritten w x free reads (t before empty) (u before empty)
  uses-in-head t u (in_head {m = m} {l = l} {ds = ds} {es = es} {f = f} {g = g} {h = h} texts all) =
      let c = used-all w x free ds es all in
      record {
        lists = each c;
        named = λ a. let b = a.0 in ((own-more w.in_use z.in_use_after z.more w.free_symbol z.free_after z.freer reads ForStatement m b.0, (((tt, (own-more w.in_use z.in_use_after z.more w.free_symbol z.free_after z.freer reads VariableDeclaration l b.1.0.0).1), (c.named (subst (λ (r : Role). NamedAll w.in_use w.free_symbol r ds) role b.1.0.1.0), tt)), (more-by reads f b.1.1.0, (more-by reads g b.1.1.1.0, (more-by reads h b.1.1.1.1.0, tt))))), tt);
        scopes = λ s ps.
            let a : one_if (binds s (head_list (declared_among false (Binds Constant) es) f g h) || false) ≡ one_if (binds s (head_list (declared_among false the_role ds) f g h) || false) = λ i. one_if (binds s (head_list (same-names c false i) f g h) || false) in
            let b = c.scopes s no_name in
            let e : scopes_among s no_name the_role ds ≡ scopes_among s no_name (Binds Constant) ds = ap (λ r. scopes_among s no_name r ds) role in
            omega arith;
        resolved = λ o q a ps seen used d.
            let names = declared_among false the_role ds in
            let after = declared_among false (Binds Constant) es in
            let oo = loop_place o names f g h in
            let qq = loop_place q after f g h in
            let agree : Agree z oo qq = record { scope = λ y e i. or_around (sought (head_list (same-names c false i) f g h) y) (a.scope y e i); hoist = a.hoist } in
            let free-names : sought (head_list names f g h) x ≡ None = no-names (names ++ []) x (no-names names x (declared-free-all w.in_use w.free_symbol x free false the_role ds used.0.1.0.1.0) [] refl) _ (no-names (declared_by false reads f) x (declared-free-by w.in_use w.free_symbol x free false reads f used.0.1.1.0) _ (no-names (declared_by false reads g) x (declared-free-by w.in_use w.free_symbol x free false reads g used.0.1.1.1.0) _ (no-names (declared_by false reads h) x (declared-free-by w.in_use w.free_symbol x free false reads h used.0.1.1.1.1.0) [] refl))) in
            let found : qq.scope x ≡ Some w.free_symbol = (λ i. or_around (sought (head_list (same-names c false i) f g h) x) (q.scope x)) ∙ (λ i. or_around (free-names i) (seen i)) in
            ((tt, refl, ((tt, refl, (c.resolved oo qq agree (λ y e. refl) found (subst (λ (r : Role). NamedAll w.in_use w.free_symbol r ds) role used.0.1.0.1.0) (subst (λ (r : Role). ResolvedAll r oo ds) role d.0.2.0.2.0), tt)), (stand-by reads oo qq agree (λ y e. refl) f used.0.1.1.0 d.0.2.1.0, (stand-by reads oo qq agree (λ y e. refl) g used.0.1.1.1.0 d.0.2.1.1.0, (stand-by reads oo qq agree (λ y e. refl) h used.0.1.1.1.1.0 d.0.2.1.1.1.0, tt))))), tt);
      }
    where
      the_role : Role
      the_role = Binds (binding_of (first_text l.texts))

      role : Binds (binding_of (first_text l.texts)) ≡ Binds Constant
      role = λ i. Binds (binding_of (first_text (texts i)))

      same-names : Rewritten w x free (Binds Constant) ds es → (v : Bool) → declared_among v (Binds Constant) es ≡ declared_among v (Binds (binding_of (first_text l.texts))) ds
      same-names c v = c.lists v ∙ sym (ap (λ r. declared_among v r ds) role)

      each : Rewritten w x free (Binds Constant) ds es → (v : Bool) → declared_among v reads (u before empty) ≡ declared_among v reads (t before empty)
      each c true = λ i. ((same-names c true i ++ []) ++ (declared_by true reads f ++ (declared_by true reads g ++ (declared_by true reads h ++ [])))) ++ []
      each c false = refl
  uses-in-head t u (with_label {m = m} {k = l} {t = t'} {u = u'} rest) =
      let c = uses-in-head t' u' rest in
      record {
        lists = each c;
        named = λ a. ((own-more w.in_use z.in_use_after z.more w.free_symbol z.free_after z.freer reads LabeledStatement m a.0.0, (((tt, (own-more w.in_use z.in_use_after z.more w.free_symbol z.free_after z.freer Nothing Identifier l a.0.1.0.0).1), tt), ((c.named (a.0.1.1.0, tt)).0, tt))), tt);
        scopes = λ s ps. let b = c.scopes s no_name in omega arith;
        resolved = λ o q a ps seen used d. ((tt, refl, ((tt, refl, tt), ((c.resolved (body_place o) (body_place q) (record { scope = a.scope; hoist = a.hoist }) (λ y e. refl) seen (used.0.1.1.0, tt) (d.0.2.1.0, tt)).0, tt))), tt);
      }
    where
      each : Rewritten w x free reads (t' before empty) (u' before empty) → (v : Bool) → declared_among v reads (u before empty) ≡ declared_among v reads (t before empty)
      each c true = λ i. c.lists true i ++ []
      each c false = λ i. c.lists false i ++ []

  plain-loop : (r : Role) (t u : Tree) → UsesInHead (next_name w x) t u → IsPlain r t
  plain-loop r t u (in_head {f = f} {g = g} {h = h} texts all) = record { kind = refl; own = refl; declares = each; none = refl; scopes = λ s ps. refl; named = λ v f a. ((tt, a.0.1), a.1); resolved = λ p d. (tt, d.1, d.2) }
    where
      each : (v : Bool) → declared v r t ≡ declared v reads t
      each true = refl
      each false = refl
  plain-loop r t u (with_label {t = t'} {u = u'} rest) = record { kind = refl; own = refl; declares = each; none = λ i. (plain-loop reads t' u' rest).none i ++ []; scopes = λ s ps. refl; named = λ v f a. ((tt, a.0.1), a.1); resolved = λ p d. (tt, d.1, d.2) }
    where
      each : (v : Bool) → declared v r t ≡ declared v reads t
      each true = refl
      each false = refl

  -- CASES

  in-cases : (ts us : Trees) → ConstantsInCases (next_name w x) ts us → Rewritten w x free reads ts us
  in-cases ts us no_case = record { lists = λ v. refl; named = λ h. tt; scopes = λ s ps. refl; resolved = λ o q a b e h d. tt }
  in-cases ts us (in_case {l = l} {f = f} {ts = ss} {us = zs} {cs = cs} {ds = ds} here rest) =
      let c = constants w x free ss zs here in
      let e = in-cases cs ds rest in
      record {
        lists = each c e;
        named = λ a. ((own-more w.in_use z.in_use_after z.more w.free_symbol z.free_after z.freer reads SwitchCase l a.0.0, (more-by reads f a.0.1.0, (c.named a.0.1.1.0, tt))), e.named a.1);
        scopes = λ s ps. let a = c.scopes s no_name in let b = e.scopes s ps in omega arith;
        resolved = λ o q a ps seen used d. ((tt, refl, (stand-by reads (body_place o) (body_place q) (record { scope = a.scope; hoist = a.hoist }) (λ y g. refl) f used.0.1.0 d.0.2.0, (c.resolved (body_place o) (body_place q) (record { scope = a.scope; hoist = a.hoist }) (λ y g. refl) seen used.0.1.1.0 d.0.2.1.0, tt))), e.resolved o q a ps seen used.1 d.1);
      }
    where
      each : Rewritten w x free reads ss zs → Rewritten w x free reads cs ds → (v : Bool) → declared_among v reads us ≡ declared_among v reads ts
      each c e true = λ i. (declared_by true reads f ++ (c.lists true i ++ [])) ++ e.lists true i
      each c e false = λ i. (declared_by false reads f ++ (c.lists false i ++ [])) ++ e.lists false i

  abbrev case_place : Place → List Bound → Place
  case_place o bs = record { scope = λ y. or_around (sought (bs ++ []) y) (o.scope y); hoist = o.hoist; parameters = no_name }

  in-switch : (m : Label) (d : Field) (cs ds : Trees) → ConstantsInCases (next_name w x) cs ds → Rewritten w x free reads (node SwitchStatement m (switch_fields d cs) before empty) (node SwitchStatement m (switch_fields d ds) before empty)
  in-switch m d cs ds h =
      let c = in-cases cs ds h in
      record {
        lists = each c;
        named = λ a. ((own-more w.in_use z.in_use_after z.more w.free_symbol z.free_after z.freer reads SwitchStatement m a.0.0, (more-by reads d a.0.1.0, (c.named a.0.1.1.0, tt))), tt);
        scopes = λ s ps.
            let a : one_if (binds s (declared_among false reads ds ++ []) || false) ≡ one_if (binds s (declared_among false reads cs ++ []) || false) = λ i. one_if (binds s (c.lists false i ++ []) || false) in
            let b = c.scopes s no_name in
            omega arith;
        resolved = λ o q a ps seen used e.
            let oo = case_place o (declared_among false reads cs) in
            let qq = case_place q (declared_among false reads ds) in
            let agree : Agree z oo qq = record { scope = λ y g i. or_around (sought (c.lists false i ++ []) y) (a.scope y g i); hoist = a.hoist } in
            let none : sought (declared_among false reads cs ++ []) x ≡ None = no-names (declared_among false reads cs) x (declared-free-all w.in_use w.free_symbol x free false reads cs used.0.1.1.0) [] refl in
            let found : qq.scope x ≡ Some w.free_symbol = (λ i. or_around (sought (c.lists false i ++ []) x) (q.scope x)) ∙ (λ i. or_around (none i) (seen i)) in
            ((tt, refl, (stand-by reads (body_place o) (body_place q) (record { scope = a.scope; hoist = a.hoist }) (λ y g. refl) d used.0.1.0 e.0.2.0, (c.resolved oo qq agree (λ y g. refl) found used.0.1.1.0 e.0.2.1.0, tt))), tt);
      }
    where
      each : Rewritten w x free reads cs ds → (v : Bool) → declared_among v reads (node SwitchStatement m (switch_fields d ds) before empty) ≡ declared_among v reads (node SwitchStatement m (switch_fields d cs) before empty)
      each c true = λ i. (declared_by true reads d ++ (c.lists true i ++ [])) ++ []
      each c false = refl

-- `switch` declares nothing around it but by `var`, where what it tests declares nothing
plain-switch : (r : Role) (m : Label) (d : Field) (cs : Trees) → declared_by false reads d ≡ [] → IsPlain r (node SwitchStatement m (switch_fields d cs))
plain-switch r m d cs silent = record { kind = refl; own = refl; declares = each; none = λ i. silent i ++ []; scopes = λ s ps. refl; named = λ v f a. ((tt, a.0.1), a.1); resolved = λ p d. (tt, d.1, d.2) }
  where
    each : (v : Bool) → declared v r (node SwitchStatement m (switch_fields d cs)) ≡ declared v reads (node SwitchStatement m (switch_fields d cs))
    each true = refl
    each false = refl

-- THE RULES

pub loop-nodes : (n : Site) (s s' : Ledger) (t u : Tree) → LoopUsing n s (at_node t) s' (at_node u) → Named (whole_in s).in_use (whole_in s).free_symbol n.role t → Outcome (NodesKept n t u) s s'
loop-nodes n s s' t u (of_loop {w = w} {q = q} {y = y} {a = a} {u = u'} {c = x} place takes h) used =
    let free = takes.fresh.free in
    taking w x free q y a (NodesKept n t u) below (record { pending = refl; this = refl; top = refl })
    (around-statement w x free n.names n.role t u' takes.other (plain-loop w x free n.role t u' h) (uses-in-head w x free t u' h) takes.helpers takes.helpers_used used)

pub loop-only : (n : Site) (s s' : Ledger) (x y : Spot) → LoopUsing n s x s' y → AtNodes x y
loop-only n s s' x y (of_loop place takes h) = tt

pub loop-lawful : Lawful LoopUsing
loop-lawful = nodes-only {R = LoopUsing} loop-only loop-nodes

pub switch-nodes : (n : Site) (s s' : Ledger) (t u : Tree) → SwitchUsing n s (at_node t) s' (at_node u) → Named (whole_in s).in_use (whole_in s).free_symbol n.role t → Outcome (NodesKept n t u) s s'
switch-nodes n s s' t u (of_switch {w = w} {q = q} {y = y} {a = a} {m = m} {d = d} {cs = cs} {ds = ds} {c = x} some silent takes h) used =
    let free = takes.fresh.free in
    taking w x free q y a (NodesKept n t u) below (record { pending = refl; this = refl; top = refl })
    (around-statement w x free n.names n.role t (node SwitchStatement m (switch_fields d ds)) takes.other (plain-switch n.role m d cs silent) (in-switch w x free m d cs ds h) takes.helpers takes.helpers_used used)

pub switch-only : (n : Site) (s s' : Ledger) (x y : Spot) → SwitchUsing n s x s' y → AtNodes x y
switch-only n s s' x y (of_switch some silent takes h) = tt

pub switch-lawful : Lawful SwitchUsing
switch-lawful = nodes-only {R = SwitchUsing} switch-only switch-nodes
