-- Steps write no symbol that was in use and that nothing writes, and so steady symbols stay unwritten.
use Rattle.std.proofs.Common.{arith, ◌≡◌, ◌<◌, ◌≤◌, ℕ, zero, suc, inl, inr, refl, sym, ap, subst, ◌∙◌, List, [], ◌∷◌}
use Rattle.std.specs.Prelude.{◌⊎◌, Bool, true, false, Option, is_some, codes, map}
use Rattle.es_tree.specs.Children.{child_at, only_child}
use Rattle.es_tree.specs.HasForm.{has_form}
use Rattle.es_tree.specs.Tree.{Tree, done, ◌then◌, statements, Trees, empty, trees}
use Rattle.es_tree.specs.declared.options.EnvOptions.{EnvOptions}
use Rattle.es_tree.specs.declared.table.Sort.TheVariants.{Program as s-Program}
use Rattle.es_semantic.specs.RolesOf.{reads, role_at}
use Rattle.es_semantic.specs.declared.place.Binding.{Binding}
use Rattle.es_semantic.specs.declared.place.Role.{Role}
use Rattle.es_semantic.specs.declared.place.Role.TheVariants.{Binds, Top}
use Rattle.es_resolution.specs.Declarations.{Bound}
use Rattle.es_resolution.proofs.Roles.{role-same}
use Rattle.es_steps.specs.CoreRules.{RowRule, rows_under, where_on}
use Rattle.es_steps.specs.Exponentiation.{ExponentiationRule}
use Rattle.es_steps.specs.LogicalAssignment.{LogicalAssignmentRule}
use Rattle.es_steps.specs.NamespaceExports.{NamespaceRule}
use Rattle.es_steps.specs.NamespaceExports.NamespaceRule.{exports}
use Rattle.es_steps.specs.Nodes.{declarator}
use Rattle.es_steps.specs.NullishCoalescing.{NullishCoalescingRule}
use Rattle.es_steps.specs.ObjectSpread.{SpreadRule}
use Rattle.es_steps.specs.Open.{Additions, Open, OpenField, OpenFields, OpenTrees, Pending, after_imports, declaration, finished, finished_field, finished_fields, finished_trees, is_body, nothing_pending, pending_statements, whole_list, with_vars, written_body}
use Rattle.es_steps.specs.OptionalCatch.{CatchRule}
use Rattle.es_steps.specs.OptionalCatch.CatchRule.{catches}
use Rattle.es_steps.specs.OptionalChaining.{OptionalChainingRule}
use Rattle.es_steps.specs.Rules.{Replacing, Writing, either_rule, with_made}
use Rattle.es_steps.specs.Rules.Replacing.{replaces}
use Rattle.es_steps.specs.Rules.Writing.{all_pending, body_declarators, declarators, insertions}
use Rattle.es_steps.specs.Steps.{FieldStep, FieldsStep, Ledger, Site, Spot, Step, TreesStep, Whole, the_program}
use Rattle.es_steps.specs.Steps.Spot.{at_beside, at_node}
use Rattle.es_steps.specs.Steps.Step.{acts, inside}
use Rattle.es_steps.specs.Steps.FieldsStep.{in_first, in_later}
use Rattle.es_steps.specs.Steps.FieldStep.{acts_on_body, acts_on_list, in_body, in_child, in_children, in_list, in_program, in_target}
use Rattle.es_steps.specs.Steps.TreesStep.{acts_on_flanked, after_flanked, flanks, in_flanked, in_head, in_tail}
use Rattle.es_steps.specs.WrapRule.{OutsideSlots, WrapRule}
use Rattle.es_steps.specs.WrapRule.WrapRule.{wraps}
use Rattle.es_steps.proofs.FormLists.{IsPlain, IsPlainList}
use Rattle.es_steps.proofs.FormOpen.{AreProperFields, AreProperTrees, IsProper, IsProperField}
use Rattle.es_steps.proofs.FormRules.{FormLawful}
use Rattle.es_steps.proofs.Namespaces.{exports-nodes}
use Rattle.es_steps.proofs.Opened.{finished-opened, finished-trees}
use Rattle.es_steps.proofs.RuleLaws.{writes-lists}
use Rattle.es_steps.proofs.Taken.{whole_in}
use Rattle.es_statement_steps.proofs.AloneRules.{alone, alone-form}
use Rattle.es_valid_steps.proofs.ProgramLists.{Exported, ProgramExported, program-exported}
use Rattle.es_valid_steps.proofs.ProgramLists.Exported.{here, there}
use Rattle.es_valid_steps.proofs.ProgramLists.ProgramExported.{at_list as in_the_list}
use Rattle.es_valid_steps.proofs.Spread.{finished-spread, spread}
use Rattle.es_statement_steps.proofs.AvoidedNames.{below_names, names_below}
use Rattle.es_statement_steps.proofs.Below.{Below, BelowField, BelowTrees}
use Rattle.es_statement_steps.proofs.WholeLists.{whole-below}
use Rattle.es_statement_steps.proofs.StepMoves.{below-after}
use Rattle.es_statement_steps.proofs.Unwritten.{IsSparing, Spares, SparesAll, SteadyIn, spared-of, unwritten-of}
use Rattle.es_statement_steps.proofs.UnwrittenChains.{chaining-spared}
use Rattle.es_statement_steps.proofs.UnwrittenRows.{assigning-spared, catching-spared, coalescing-spared, raising-spared, spreading-spared, wrapping-spared}

-- WHAT A RULE DOES: steady symbols stay, symbols are numbered on, and what is in use and that nothing writes in a node isn't written in what it becomes

pub record Onward (w w' : Whole) : Type 0 where
  pub steady : (m : ℕ) → w'.steady m ≡ w.steady m
  pub free : w.free_symbol ≤ w'.free_symbol

pub record Sparing (R : Site → Ledger → Spot → Ledger → Spot → Type 0) : Type 0 where
  pub onward : (n : Site) (s s' : Ledger) (x y : Spot) → R n s x s' y → Onward (whole_in s) (whole_in s')
  pub nodes : (m : ℕ) (n : Site) (s s' : Ledger) (t u : Tree) → m < (whole_in s).free_symbol → R n s (at_node t) s' (at_node u) → Spares m n.role t → Spares m n.role u

same-whole : (w : Whole) → Onward w w
same-whole w = record { steady = λ m. refl; free = omega arith }

made-onward : (bs : List Bound) (w : Whole) → Onward w (with_made bs w)
made-onward bs w = record { steady = λ m. refl; free = omega arith }

pick : {A B C : Type 0} → (A → C) → (B → C) → A ⊎ B → C
pick f g (inl h) = f h
pick f g (inr h) = g h

both-sparing : {Q R : Site → Ledger → Spot → Ledger → Spot → Type 0} → Sparing Q → Sparing R → Sparing (either_rule Q R)
both-sparing {Q} {R} q r = record {
  onward = λ n s s' x y h. pick {A = Q n s x s' y} {B = R n s x s' y} (λ g. q.onward n s s' x y g) (λ g. r.onward n s s' x y g) h;
  nodes = λ m n s s' t u less h. pick {A = Q n s (at_node t) s' (at_node u)} {B = R n s (at_node t) s' (at_node u)} (λ g. q.nodes m n s s' t u less g) (λ g. r.nodes m n s s' t u less g) h;
}

on-sparing : (b : Bool) (R : Site → Ledger → Spot → Ledger → Spot → Type 0) → Sparing R → Sparing (where_on b R)
on-sparing true R h = h
on-sparing false R h = record { onward = λ n s s' x y r. absurd r; nodes = λ m n s s' t u less r. absurd r }

row-sparing : (R : Site → Whole → List Bound → Tree → Tree → Type 0) → ((m : ℕ) (n : Site) (w : Whole) (bs : List Bound) (t u : Tree) → m < w.free_symbol → R n w bs t u → (r : Role) → Spares m r t → Spares m r u) → Sparing (Replacing R)
row-sparing R law = record { onward = onward; nodes = nodes }
  where
    onward : (n : Site) (s s' : Ledger) (x y : Spot) → Replacing R n s x s' y → Onward (whole_in s) (whole_in s')
    onward n s s' x y (replaces {w = w} bs h) = made-onward bs w

    nodes : (m : ℕ) (n : Site) (s s' : Ledger) (t u : Tree) → m < (whole_in s).free_symbol → Replacing R n s (at_node t) s' (at_node u) → Spares m n.role t → Spares m n.role u
    nodes m n s s' t u less (replaces {w = w} bs h) k = law m n w bs t u less h n.role k

rule-sparing : (R : Site → Whole → List Bound → Tree → Tree → Type 0) → ((m : ℕ) (n : Site) (w : Whole) (bs : List Bound) (t u : Tree) → m < w.free_symbol → R n w bs t u → (r : Role) → Spares m r t → Spares m r u) → Sparing (RowRule R)
rule-sparing R law = row-sparing (OutsideSlots R) (λ m n w bs t u less h. law m n w bs t u less h.rule)

writing-sparing : Sparing Writing
writing-sparing = record { onward = onward; nodes = λ m n s s' t u less h. absurd (writes-lists h) }
  where
    onward : (n : Site) (s s' : Ledger) (x y : Spot) → Writing n s x s' y → Onward (whole_in s) (whole_in s')
    onward n s s' x y declarators = same-whole (whole_in s)
    onward n s s' x y all_pending = same-whole (whole_in s)
    onward n s s' x y body_declarators = same-whole (whole_in s)
    onward n s s' x y insertions = same-whole (whole_in s)

wrapping-sparing : (o : EnvOptions) → Sparing (WrapRule o)
wrapping-sparing o = record { onward = onward; nodes = nodes }
  where
    onward : (n : Site) (s s' : Ledger) (x y : Spot) → WrapRule o n s x s' y → Onward (whole_in s) (whole_in s')
    onward n s s' x y (wraps role e slot h) = same-whole (whole_in s)

    nodes : (m : ℕ) (n : Site) (s s' : Ledger) (t u : Tree) → m < (whole_in s).free_symbol → WrapRule o n s (at_node t) s' (at_node u) → Spares m n.role t → Spares m n.role u
    nodes m n s s' t u less (wraps {e = e} role x slot h) k = subst (λ (r : Role). Spares m r u) (sym role) (wrapping-spared m e (subst (λ (r : Role). Spares m r e) role k))

catching-sparing : Sparing CatchRule
catching-sparing = record { onward = onward; nodes = λ m n s s' t u less h. catching-spared m n s s' t u h n.role }
  where
    onward : (n : Site) (s s' : Ledger) (x y : Spot) → CatchRule n s x s' y → Onward (whole_in s) (whole_in s')
    onward n s s' x y (catches {w = w} fresh) = made-onward _ w

exporting-sparing : Sparing NamespaceRule
exporting-sparing = record { onward = onward; nodes = λ m n s s' t u less h. absurd (exports-nodes h) }
  where
    onward : (n : Site) (s s' : Ledger) (x y : Spot) → NamespaceRule n s x s' y → Onward (whole_in s) (whole_in s')
    onward n s s' x y (exports {w = w} d fresh q r o) = made-onward _ w

rows-sparing : (o : EnvOptions) → Sparing (rows_under o)
rows-sparing o =
    both-sparing (on-sparing o.es2021.logical_assignment_operators _ (rule-sparing LogicalAssignmentRule assigning-spared))
    (both-sparing (both-sparing (on-sparing o.es2020.nullish_coalescing_operator _ (rule-sparing NullishCoalescingRule coalescing-spared))
    (on-sparing o.es2020.optional_chaining _ (rule-sparing (OptionalChainingRule o.assumptions.no_document_all) (chaining-spared o.assumptions.no_document_all))))
    (on-sparing o.es2016.exponentiation_operator _ (rule-sparing ExponentiationRule raising-spared)))

pub alone-sparing : (o : EnvOptions) → Sparing (alone o)
alone-sparing o =
    both-sparing (both-sparing writing-sparing (both-sparing (wrapping-sparing o) (rows-sparing o)))
    (both-sparing (on-sparing o.es2019.optional_catch_binding _ catching-sparing) (on-sparing (is_some o.es2018.object_rest_spread) _ (row-sparing SpreadRule (λ m n w bs t u less. spreading-spared m n w bs t u))))

-- THE WHOLE, along steps

module _ (R : Site → Ledger → Spot → Ledger → Spot → Type 0) (law : Sparing R) where
  mutual
    pub goes-onward : {n : Site} {s s' : Ledger} {t u : Open} → Step R n s t s' u → Onward (whole_in s) (whole_in s')
    goes-onward (acts {n = n} {s = s} {s' = s'} t u h) = law.onward n s s' _ _ h
    goes-onward (inside h) = onward-in h

    onward-in : {c : ℕ → Site} {s s' : Ledger} {fs gs : OpenFields} → FieldsStep R c s fs s' gs → Onward (whole_in s) (whole_in s')
    onward-in (in_first h) = onward-by h
    onward-in (in_later h) = onward-in h

    onward-by : {n : Site} {s s' : Ledger} {f g : OpenField} → FieldStep R n s f s' g → Onward (whole_in s) (whole_in s')
    onward-by (in_child h) = goes-onward h
    onward-by (in_children h) = onward-all h
    onward-by (in_body e y y' h) = goes-onward h
    onward-by (in_list d e h) = onward-all h
    onward-by (in_target e h) = onward-all h
    onward-by (in_program e h) = onward-all h
    onward-by (acts_on_body {n = n} {s = s} {s' = s'} t u h) = law.onward n s s' _ _ h
    onward-by (acts_on_list {n = n} {s = s} {s' = s'} ts us h) = law.onward n s s' _ _ h

    onward-all : {n : Site} {s s' : Ledger} {ts us : OpenTrees} → TreesStep R n s ts s' us → Onward (whole_in s) (whole_in s')
    onward-all (in_head h) = goes-onward h
    onward-all (in_tail h) = onward-all h
    onward-all (in_flanked h) = goes-onward h
    onward-all (after_flanked h) = onward-all h
    onward-all (flanks {n = n} {s = s} {s' = s'} t u h) = law.onward n s s' _ _ h
    onward-all (acts_on_flanked {n = n} {s = s} {s' = s'} t us h) = law.onward n s s' _ _ h

-- ROLES stay, since no field comes or goes

same-child : {R : Site → Ledger → Spot → Ledger → Spot → Type 0} {n : Site} {s s' : Ledger} {f g : OpenField} → FieldStep R n s f s' g → is_some (only_child (finished_field g)) ≡ is_some (only_child (finished_field f))
same-child (in_child h) = refl
same-child (in_children h) = refl
same-child (in_body e y y' h) = refl
same-child (in_list e d h) = refl
same-child (in_target e h) = refl
same-child (in_program e h) = refl
same-child (acts_on_list ts us h) = refl
same-child (acts_on_body t u h) = refl

same-children : {R : Site → Ledger → Spot → Ledger → Spot → Type 0} {c : ℕ → Site} {s s' : Ledger} {fs gs : OpenFields} → FieldsStep R c s fs s' gs → (i : ℕ) → is_some (child_at i (finished_fields gs)) ≡ is_some (child_at i (finished_fields fs))
same-children (in_first h) zero = same-child h
same-children (in_first h) (suc i) = refl
same-children (in_later h) zero = refl
same-children (in_later h) (suc i) = same-children h i

-- LISTS AND BODIES with temporaries, which write none

module _ (m : ℕ) where
  spared-below : (r : Role) (ts : Trees) → SparesAll m r ts → BelowTrees (λ t. Spares m r t) ts
  spared-below r ts h = (names_below (IsSparing m) (λ i. r) (statements ts then done) (h, tt)).0

  below-spared : (r : Role) (ts : Trees) → BelowTrees (λ t. Spares m r t) ts → SparesAll m r ts
  below-spared r ts h = (below_names (IsSparing m) (λ i. r) (statements ts then done) (h, tt)).0

  declarators-spared : (b : Binding) (bs : List Bound) → SparesAll m (Binds b) (trees (map declarator bs))
  declarators-spared b [] = tt
  declarators-spared b (x ∷ xs) = ((tt, ((refl, tt), (tt, tt))), declarators-spared b xs)

  vars-spared : (r : Role) (bs : List Bound) → BelowTrees (λ t. Spares m r t) (declaration (codes "var") (map declarator bs) empty)
  vars-spared r [] = tt
  vars-spared r (b ∷ bs) = ((tt, (declarators-spared _ (b ∷ bs), tt)), tt)

  body-inside : (p : Pending) (t : Tree) → IsPlain p → Spares m reads (written_body p t) → Spares m reads t
  body-inside p t plain h = at plain.names (subst (λ (p : Pending). Spares m reads (written_body p t)) plain.are h)
    where
      at : (bs : List Bound) → Spares m reads (written_body (with_vars bs nothing_pending) t) → Spares m reads t
      at [] h = h
      at (b ∷ bs) h = h.1.1.0.1.0.1.0

  body-around : (p : Pending) (t : Tree) → IsPlain p → Spares m reads t → Spares m reads (written_body p t)
  body-around p t plain h = subst (λ (p : Pending). Spares m reads (written_body p t)) (sym plain.are) (at plain.names)
    where
      at : (bs : List Bound) → Spares m reads (written_body (with_vars bs nothing_pending) t)
      at [] = h
      at (b ∷ bs) = (tt, (tt, (((tt, (declarators-spared _ (b ∷ bs), tt)), ((tt, (h, tt)), tt)), tt)))

  -- a list before and after a step in it
  list-spared : (r : Role) (ts us : Trees) → (BelowTrees (λ t. Spares m r t) ts → BelowTrees (λ t. Spares m r t) us) → (bs : Trees) (q : Pending) (y : Option Bound) (a : Additions) → IsPlainList q y a → BelowTrees (λ t. Spares m r t) (after_imports bs ts) → BelowTrees (λ t. Spares m r t) (whole_list q y a us)
  list-spared r ts us step bs q y a plain h = whole-below (λ t. Spares m r t) (vars-spared r) q y a us plain (step (below-after (λ t. Spares m r t) bs ts h))

-- STEPS

module _ (R : Site → Ledger → Spot → Ledger → Spot → Type 0) (form : FormLawful R) (law : Sparing R) (m : ℕ) where
  mutual
    pub stays-spared : {n : Site} {s s' : Ledger} {t u : Open} → Step R n s t s' u → m < (whole_in s).free_symbol → IsProper t → IsProper u → Spares m n.role (finished t) → Spares m n.role (finished u)
    stays-spared (acts {n = n} {s = s} {s' = s'} t u h) less proper after spared =
        subst (λ (x : Tree). Spares m n.role x) (sym (finished-opened u)) (law.nodes m n s s' t u less h (subst (λ (x : Tree). Spares m n.role x) (finished-opened t) spared))
    stays-spared (inside {n = n} {k = k} {l = l} {fs = fs} {gs = gs} h) less proper after spared =
        let r = fields-spared h less (is_body k) proper after (names_below (IsSparing m) (role_at n.role k l (finished_fields fs)) (finished_fields fs) spared.1) in (
          spared.0,
          below_names (IsSparing m) (role_at n.role k l (finished_fields gs)) (finished_fields gs)
              (subst (λ (roles : ℕ → Role). Below (λ i t. Spares m (roles i) t) (finished_fields gs)) (sym (role-same n.role k l (finished_fields fs) (finished_fields gs) (same-children h))) r),
        )

    fields-spared : {c : ℕ → Site} {s s' : Ledger} {fs gs : OpenFields} → FieldsStep R c s fs s' gs → m < (whole_in s).free_symbol → (bodies : ℕ → Bool) → AreProperFields bodies fs → AreProperFields bodies gs →
        Below (λ i t. Spares m (c i).role t) (finished_fields fs) → Below (λ i t. Spares m (c i).role t) (finished_fields gs)
    fields-spared (in_first h) less bodies proper after spared = (field-spared h less (bodies zero) proper.0 after.0 spared.0, spared.1)
    fields-spared (in_later h) less bodies proper after spared = (spared.0, fields-spared h less (λ i. bodies (suc i)) proper.1 after.1 spared.1)

    field-spared : {n : Site} {s s' : Ledger} {f g : OpenField} → FieldStep R n s f s' g → m < (whole_in s).free_symbol → (b : Bool) → IsProperField b f → IsProperField b g → BelowField (λ t. Spares m n.role t) (finished_field f) → BelowField (λ t. Spares m n.role t) (finished_field g)
    field-spared (in_child h) less b proper after spared = stays-spared h less proper after spared
    field-spared (in_children h) less b proper after spared = trees-spared h less proper after spared
    field-spared (in_body {n = n} {p = p} {q = q} {t = t} {u = u} e y y' h) less b proper after spared =
        subst (λ (r : Role). Spares m r (written_body q (finished u))) (sym e)
        (body-around m q (finished u) after.1 (stays-spared h less proper.2 after.2 (body-inside m p (finished t) proper.1 (subst (λ (r : Role). Spares m r (written_body p (finished t))) e spared))))
    field-spared (in_list {n = n} {p = p} {q = q} {y = y} {b = d} {ts = ts} {us = us} e e' h) less b proper after spared = list-spared m n.role (finished_trees ts) (finished_trees us) (λ k. trees-spared h less proper.1 after.1 k) (pending_statements p y d) q y d after.0 spared
    field-spared (in_target {n = n} {p = p} {q = q} {y = y} {y' = y'} {b = d} {ts = ts} {us = us} e h) less b proper after spared = list-spared m n.role (finished_trees ts) (finished_trees us) (λ k. trees-spared h less proper.1 after.1 k) (pending_statements p y d) q y' d after.0 spared
    field-spared (in_program {n = n} {p = p} {q = q} {y = y} {y' = y'} {b = d} {b' = d'} {ts = ts} {us = us} e h) less b proper after spared = list-spared m n.role (finished_trees ts) (finished_trees us) (λ k. trees-spared h less proper.1 after.1 k) (pending_statements p y d) q y' d' after.0 spared
    field-spared (acts_on_list {n = n} {s = s} {s' = s'} {p = p} {q = q} {x = x} {y = y} {a = a} {b = d} ts us h) less b proper after spared =
        subst (λ (vs : Trees). BelowTrees (λ t. Spares m n.role t) vs) (ap (λ vs. whole_list p x a vs) (finished-trees ts) ∙ (form.at_lists n s s' p q x y a d ts us h proper.0).trees ∙ sym (ap (λ vs. whole_list q y d vs) (finished-trees us))) spared
    field-spared (acts_on_body {n = n} {s = s} {s' = s'} {p = p} t u h) less b proper after spared =
        subst (λ (x : Tree). Spares m n.role x) (ap (λ x. written_body p x) (finished-opened t) ∙ (form.at_bodies n s s' p t u h).1 ∙ sym (finished-opened u)) spared

    trees-spared : {n : Site} {s s' : Ledger} {ts us : OpenTrees} → TreesStep R n s ts s' us → m < (whole_in s).free_symbol → AreProperTrees ts → AreProperTrees us → BelowTrees (λ t. Spares m n.role t) (finished_trees ts) → BelowTrees (λ t. Spares m n.role t) (finished_trees us)
    trees-spared (in_head h) less proper after spared = (stays-spared h less proper.0 after.0 spared.0, spared.1)
    trees-spared (in_tail h) less proper after spared = (spared.0, trees-spared h less proper.1 after.1 spared.1)
    trees-spared (in_flanked h) less proper after spared = absurd proper
    trees-spared (after_flanked h) less proper after spared = absurd proper
    trees-spared (flanks {n = n} {s = s} {s' = s'} {bs = bs} {cs = cs} t u h) less proper after spared = absurd (form.no_flanks n s s' t u bs cs h)
    trees-spared (acts_on_flanked t us h) less proper after spared = absurd proper

-- EXPORTS OF NAMESPACES

one-exported : {n : Site} {s s' : Ledger} {t i e : Tree} → NamespaceRule n s (at_node t) s' (at_beside (i ∷ []) e []) → (m : ℕ) (r : Role) → Spares m r t → Spares m r i × Spares m r e
one-exported (exports d fresh silent still none) m r h = ((tt, (((tt, ((refl, tt), tt)), tt), (h.1.1.0, (h.1.1.1.0, tt)))), (tt, (tt, (((tt, ((refl, tt), (h.1.0, tt))), tt), (tt, (tt, tt))))))

list-exported : {n : Site} {s s' : Ledger} {ts us : OpenTrees} → Exported n s s' ts us → (m : ℕ) (r : Role) → BelowTrees (λ t. Spares m r t) (finished_trees ts) → BelowTrees (λ t. Spares m r t) (finished_trees us)
list-exported (here t i e h) m r d =
    let both = one-exported h m r (subst (λ (x : Tree). Spares m r x) (finished-opened t) d.0) in
    (subst (λ (x : Tree). Spares m r x) (sym (finished-opened i)) both.0, (subst (λ (x : Tree). Spares m r x) (sym (finished-opened e)) both.1, d.1))
list-exported (there t h) m r d = (d.0, list-exported h m r d.1)

program-spared : {s s' : Ledger} {x y : Open} → ProgramExported s s' x y → IsProper y → (m : ℕ) → Spares m reads (finished x) → Spares m reads (finished y)
program-spared (in_the_list {p = p} {q = q} {x = x} {y = y} {a = a} {b = b} {ts = ts} {us = us} h) after m d =
    let list = list-spared m Top (finished_trees ts) (finished_trees us) (λ k. list-exported h m Top k) (pending_statements p x a) q y b after.1.0.0 (spared-below m Top (whole_list p x a (finished_trees ts)) d.1.1.0) in
    (tt, (d.1.0, (below-spared m Top (whole_list q y b (finished_trees us)) list, tt)))

-- STEADY SYMBOLS

steady-on : (w w' : Whole) (x y : Tree) → Onward w w' → ((m : ℕ) → m < w.free_symbol → Spares m reads x → Spares m reads y) → SteadyIn w reads x → SteadyIn w' reads y
steady-on w w' x y on step h = record { old = λ m e. later m (h.old m (sym (on.steady m) ∙ e)) on.free; unwritten = λ m e. let before = sym (on.steady m) ∙ e in unwritten-of m reads y (step m (h.old m before) (spared-of m reads x (h.unwritten m before))) }
  where
    later : (m : ℕ) → m < w.free_symbol → w.free_symbol ≤ w'.free_symbol → m < w'.free_symbol
    later m d e = omega arith

pub steady-step : (o : EnvOptions) {s s' : Ledger} {x y : Open} → Step (alone o) the_program s x s' y → IsProper x → IsProper y → SteadyIn (whole_in s) reads (finished x) → SteadyIn (whole_in s') reads (finished y)
steady-step o {s = s} {s' = s'} {x = x} {y = y} h proper after =
    steady-on (whole_in s) (whole_in s') (finished x) (finished y) (goes-onward (alone o) (alone-sparing o) h) (λ m less. stays-spared (alone o) (alone-form o) (alone-sparing o) m h less proper after)

pub steady-exported : {s s' : Ledger} {x y : Open} → Step NamespaceRule the_program s x s' y → has_form s-Program (finished x) ≡ true → IsProper (spread y) → SteadyIn (whole_in s) reads (finished x) → SteadyIn (whole_in s') reads (finished y)
steady-exported {s = s} {s' = s'} {x = x} {y = y} h form after =
    steady-on (whole_in s) (whole_in s') (finished x) (finished y) (goes-onward NamespaceRule exporting-sparing h) (λ m less d. subst (λ (t : Tree). Spares m reads t) (finished-spread y)
    (program-spared (program-exported h form) after m (subst (λ (t : Tree). Spares m reads t) (sym (finished-spread x)) d)))
