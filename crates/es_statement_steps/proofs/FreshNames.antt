-- A name that isn't in use stands nowhere in a tree of the class: not where it would be evaluated or written, and no scope or import declares it. A label, a
-- key and a name in another module are no names in use; of these only a test of their own says anything.
use Rattle.std.proofs.Common.{◌≡◌, ℕ, zero, suc, refl, sym, ap, subst}
use Rattle.std.proofs.lemmas.Bool.{and_parts, and_from}
use Rattle.std.specs.Prelude.{Bool, true, false, not, ◌||◌}
use Rattle.es_tree.specs.Names.{first_text}
use Rattle.es_tree.specs.Scopes.{declares}
use Rattle.es_tree.specs.Tree.{Tree, node, Label, Fields, done, ◌then◌, Field, missing, one, many, statements, Trees, empty, ◌before◌, kind_of}
use Rattle.es_tree.specs.Walks.{all_nodes, all_in_field, all_in_fields, all_in_trees}
use Rattle.es_tree.specs.Words.{Text}
use Rattle.es_tree.specs.declared.ast_type.AstType.{AstType}
use Rattle.es_tree.specs.declared.ast_type.AstType.TheVariants.{Identifier, Program}
use Rattle.es_runs.specs.Alike.{Level, bad_names, is_bad}
use Rattle.es_runs.specs.Alike.Level.{no_evaluation}
use Rattle.es_runs.specs.Runs.{none_hidden}
use Rattle.es_semantic.specs.RolesOf.{reads, role_at}
use Rattle.es_semantic.specs.declared.place.Role.{Role}
use Rattle.es_semantic.specs.declared.place.Role.TheVariants.{Nothing}
use Rattle.es_resolution.specs.Named.{IsUsed, Named, NamedAll, NamedBy, NamedIn, OwnUsed}
use Rattle.es_statement_runs.specs.Names.{own_names, tops}
use Rattle.es_statement_runs.specs.Places.{Take, avoids, avoids_trees}
use Rattle.es_statement_steps.proofs.AvoidedNames.{AtNames, AtNamesIn, OwnAt, PassesAims, below_names, names_avoid, own_names_fine, top_fine}
use Rattle.es_statement_steps.proofs.Below.{Below, BelowField, BelowTrees, both_below, by_parts, map_below, nodes_below}
use Rattle.es_statement_steps.proofs.Stands.{hands_on, stands}

-- AVOIDED NAMES

-- what is in use isn't bad, at whatever level
abbrev pub UsedIsGood : (Text → Bool) → (Level → Text → Bool) → Type 0
UsedIsGood in_use bad = (n : Level) (x : Text) → in_use x ≡ true → bad n x ≡ false

-- nor is this name, where it is only told
abbrev pub told_good : (Level → Text → Bool) → AstType → Label → Fields → Bool
told_good bad k l fs = not (is_bad bad no_evaluation k l.texts)

-- what is no name is a kind that doesn't hand that on, and is only told
pub record Told (k : AstType) (n : Take) : Type 0 where
  pub kind : hands_on k ≡ false
  pub level : n.need.level ≡ no_evaluation

module _ (in_use : Text → Bool) (free : ℕ) where
  named_trees : (r : Role) (ts : Trees) → NamedAll in_use free r ts → BelowTrees (λ t. Named in_use free r t) ts
  named_trees r empty h = tt
  named_trees r (t before ts) h = (h.0, named_trees r ts h.1)

  named_field : (r : Role) (f : Field) → NamedBy in_use free r f → BelowField (λ t. Named in_use free r t) f
  named_field r missing h = tt
  named_field r (one t) h = h
  named_field r (many ts) h = named_trees r ts h
  named_field r (statements ts) h = named_trees r ts h

  pub named_below : (roles : ℕ → Role) (fs : Fields) → NamedIn in_use free roles fs → Below (λ i t. Named in_use free (roles i) t) fs
  named_below roles done h = tt
  named_below roles (f then fs) h = (named_field (roles zero) f h.0, named_below (λ i. roles (suc i)) fs h.1)

module _ (in_use : Text → Bool) (free : ℕ) (bad : Level → Text → Bool) where
  -- of a name: that it is in use, where it has a role, and that it isn't bad where it is told
  abbrev pub IsGood : Role → Label → Type 0
  IsGood r l = IsUsed in_use r (first_text l.texts) × (not (bad no_evaluation (first_text l.texts)) ≡ true)

  own_good : (r : Role) (k : AstType) (l : Label) (fs : Fields) → OwnUsed in_use r k l → told_good bad k l fs ≡ true → OwnAt IsGood r k l
  own_good r Identifier l fs u g = (u, g)
  own_good r _ l fs u g = tt

  abbrev Good : Tree → Type 0
  Good t = (r : Role) → Named in_use free r t → all_nodes (told_good bad) t ≡ true → AtNames IsGood r t

  good_at : (k : AstType) (l : Label) (fs : Fields) → Below (λ i. Good) fs → Good (node k l fs)
  good_at k l fs below r named labels =
      let e = and_parts (told_good bad k l fs) (all_in_fields (told_good bad) fs) labels in
      let roles = role_at r k l fs in (
        own_good r k l fs named.0.0 e.0,
        below_names IsGood roles fs (map_below (λ i t. Good t × (Named in_use free (roles i) t × (all_nodes (told_good bad) t ≡ true))) (λ i t. AtNames IsGood (roles i) t) (λ i t p. p.0 (roles i) p.1.0 p.1.1) fs
            (both_below (λ i. Good) (λ i t. Named in_use free (roles i) t × (all_nodes (told_good bad) t ≡ true)) fs below
            (both_below (λ i t. Named in_use free (roles i) t) (λ i t. all_nodes (told_good bad) t ≡ true) fs (named_below in_use free roles fs named.1) (nodes_below (told_good bad) fs e.1)))),
      )

  pub named_good : (r : Role) (t : Tree) → Named in_use free r t → all_nodes (told_good bad) t ≡ true → AtNames IsGood r t
  named_good r t = by_parts Good good_at t r

  fields_good : (roles : ℕ → Role) (fs : Fields) → NamedIn in_use free roles fs → all_in_fields (told_good bad) fs ≡ true → AtNamesIn IsGood roles fs
  fields_good roles fs named told =
      below_names IsGood roles fs (map_below (λ i t. Named in_use free (roles i) t × (all_nodes (told_good bad) t ≡ true)) (λ i t. AtNames IsGood (roles i) t) (λ i t p. named_good (roles i) t p.0 p.1) fs
      (both_below (λ i t. Named in_use free (roles i) t) (λ i t. all_nodes (told_good bad) t ≡ true) fs (named_below in_use free roles fs named) (nodes_below (told_good bad) fs told)))

  good_names : UsedIsGood in_use bad → (r : Role) (n : Level) (l : Label) → (r ≡ Nothing → n ≡ no_evaluation) → IsGood r l → bad n (first_text l.texts) ≡ false
  good_names good Nothing n l e q = subst (λ m. bad m (first_text l.texts) ≡ false) (sym (e refl)) (not_bad (bad no_evaluation (first_text l.texts)) q.1)
    where
      not_bad : (b : Bool) → not b ≡ true → b ≡ false
      not_bad true h = absurd (cc h)
      not_bad false h = refl
  good_names good _ n l e q = good n (first_text l.texts) q.0

-- of hidden names all roles are alike
abbrev any_role : Role → Bool
any_role r = true

any_pass : PassesAims any_role
any_pass = record { binds = λ b. refl; writes = λ read. refl }

pub fresh_avoids : (bad : Level → Text → Bool) (in_use : Text → Bool) (free : ℕ) → UsedIsGood in_use bad → (r : Role) (n : Take) (t : Tree) → Named in_use free r t → (r ≡ Nothing → Told (kind_of t) n) → all_nodes stands t ≡ true → all_nodes (told_good bad) t ≡ true → avoids bad n t ≡ true
fresh_avoids bad in_use free good r n t named told h labels =
    names_avoid any_role any_pass bad (IsGood in_use free bad) (λ q m l e a d. good_names in_use free bad good q m l e d) r n t
    (named_good in_use free bad r t named labels)
    (record { told = λ e. (let g = told e in (g.kind, g.level)); target = λ e a. refl; pattern = λ e. refl }) h

-- HIDDEN NAMES that aren't in use

pub unused_good : (in_use hidden : Text → Bool) → ((x : Text) → in_use x ≡ true → hidden x ≡ false) → UsedIsGood in_use (bad_names hidden none_hidden)
unused_good in_use hidden away Level.no_evaluation x u = refl
unused_good in_use hidden away Level.value_alone x u = away x u
unused_good in_use hidden away Level.an_operand_of_typeof x u = away x u
unused_good in_use hidden away Level.whole_reference x u = away x u
unused_good in_use hidden away Level.a_callee x u = away x u
unused_good in_use hidden away Level.a_target x u = ap (λ b. b || false) (away x u)

-- labels and keys may be called so
told_here : (hidden frozen : Text → Bool) (k : AstType) (l : Label) (fs : Fields) → told_good (bad_names hidden frozen) k l fs ≡ true
told_here hidden frozen Identifier l fs = refl
told_here hidden frozen _ l fs = refl

every_node : (p : AstType → Label → Fields → Bool) → ((k : AstType) (l : Label) (fs : Fields) → p k l fs ≡ true) → (t : Tree) → all_nodes p t ≡ true
every_node p all = by_parts (λ t. all_nodes p t ≡ true) (λ k l fs below. and_from (p k l fs) (all_in_fields p fs) (all k l fs) (nodes_in p fs below))
  where
    nodes_among : (p : AstType → Label → Fields → Bool) (ts : Trees) → BelowTrees (λ t. all_nodes p t ≡ true) ts → all_in_trees p ts ≡ true
    nodes_among p empty h = refl
    nodes_among p (t before ts) h = and_from (all_nodes p t) (all_in_trees p ts) h.0 (nodes_among p ts h.1)

    nodes_at : (p : AstType → Label → Fields → Bool) (f : Field) → BelowField (λ t. all_nodes p t ≡ true) f → all_in_field p f ≡ true
    nodes_at p missing h = refl
    nodes_at p (one t) h = h
    nodes_at p (many ts) h = nodes_among p ts h
    nodes_at p (statements ts) h = nodes_among p ts h

    nodes_in : (p : AstType → Label → Fields → Bool) (fs : Fields) → Below (λ i t. all_nodes p t ≡ true) fs → all_in_fields p fs ≡ true
    nodes_in p done h = refl
    nodes_in p (f then fs) h = and_from (all_in_field p f) (all_in_fields p fs) (nodes_at p f h.0) (nodes_in p fs h.1)

pub names_told : (hidden frozen : Text → Bool) (t : Tree) → all_nodes (told_good (bad_names hidden frozen)) t ≡ true
names_told hidden frozen t = every_node (told_good (bad_names hidden frozen)) (told_here hidden frozen) t

-- no such name is evaluated, written or declared in a tree that is no label or key itself
pub unused_avoids : (in_use : Text → Bool) (free : ℕ) (hidden : Text → Bool) → ((x : Text) → in_use x ≡ true → hidden x ≡ false) → (r : Role) (n : Take) (t : Tree) → (r ≡ Nothing → ⊥) → Named in_use free r t → all_nodes stands t ≡ true → avoids (bad_names hidden none_hidden) n t ≡ true
unused_avoids in_use free hidden away r n t named_so named h =
    fresh_avoids (bad_names hidden none_hidden) in_use free (unused_good in_use hidden away) r n t named (λ e. absurd (named_so e)) h (names_told hidden none_hidden t)

pub unused_avoids_all : (in_use : Text → Bool) (free : ℕ) (hidden : Text → Bool) → ((x : Text) → in_use x ≡ true → hidden x ≡ false) → (r : Role) (n : Take) (ts : Trees) → (r ≡ Nothing → ⊥) → NamedAll in_use free r ts → all_in_trees stands ts ≡ true → avoids_trees (bad_names hidden none_hidden) n ts ≡ true
unused_avoids_all in_use free hidden away r n empty named_so named h = refl
unused_avoids_all in_use free hidden away r n (t before ts) named_so named h =
    let d = and_parts (all_nodes stands t) (all_in_trees stands ts) h in
    and_from (avoids (bad_names hidden none_hidden) n t) (avoids_trees (bad_names hidden none_hidden) n ts) (unused_avoids in_use free hidden away r n t named_so named.0 d.0) (unused_avoids_all in_use free hidden away r n ts named_so named.1 d.1)

-- WHAT IS DECLARED IS IN USE

abbrev unused : (Text → Bool) → Text → Bool
unused in_use y = not (in_use y)

abbrev bad_unused : (Text → Bool) → Level → Text → Bool
bad_unused in_use = bad_names (unused in_use) none_hidden

used_good : (in_use : Text → Bool) → UsedIsGood in_use (bad_unused in_use)
used_good in_use = unused_good in_use (unused in_use) (λ y e. ap not e)

not_unused : (b : Bool) → (not b || false) ≡ false → b ≡ true
not_unused true e = refl
not_unused false e = absurd (cc e)

-- by the top of a program
pub top_used : (in_use : Text → Bool) (free : ℕ) (l : Label) (fs : Fields) → all_nodes stands (node Program l fs) ≡ true → Named in_use free reads (node Program l fs) → (x : Text) → declares (tops fs) x ≡ true → in_use x ≡ true
top_used in_use free l fs h named x d = not_unused (in_use x) (top_fine any_role any_pass (bad_unused in_use) (IsGood in_use free (bad_unused in_use)) (λ q m i e a g. good_names in_use free (bad_unused in_use) (used_good in_use) q m i e g) l fs h
    (named_good in_use free (bad_unused in_use) reads (node Program l fs) named (names_told (unused in_use) none_hidden (node Program l fs))) x d)

-- by a scope or an import
pub own_names_used : (in_use : Text → Bool) (free : ℕ) (r : Role) (k : AstType) (l : Label) (fs : Fields) → all_nodes stands (node k l fs) ≡ true → NamedIn in_use free (role_at r k l fs) fs → (x : Text) → declares (own_names k fs) x ≡ true → in_use x ≡ true
own_names_used in_use free r k l fs h named x d = not_unused (in_use x) (own_names_fine any_role any_pass (bad_unused in_use) (IsGood in_use free (bad_unused in_use)) (λ q m i e a g. good_names in_use free (bad_unused in_use) (used_good in_use) q m i e g) r k l fs h
    (fields_good in_use free (bad_unused in_use) (role_at r k l fs) fs named (and_parts (told_good (bad_unused in_use) k l fs) (all_in_fields (told_good (bad_unused in_use)) fs) (names_told (unused in_use) none_hidden (node k l fs))).1) x d)
