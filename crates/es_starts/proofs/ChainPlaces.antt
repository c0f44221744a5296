-- In a program that has form and breaks no static rule each chain stands where its value is taken, or where what stands around it is lowered
-- with it (ECMA-262, 13.3.9): as the content of no chain, and as no target (13.15.1).
use Rattle.std.proofs.Common.{◌≡◌, ◌==◌, ◌&&◌, ◌||◌, ℕ, zero, suc, Bool, true, false, List, [], ◌∷◌, refl, sym, ap, subst, ◌∙◌, true≢false}
use Rattle.std.specs.Prelude.{Option, Some, None, bytes_eq, codes, not, if◌then◌else◌}
use Rattle.std.specs.List.{list_any}
use Rattle.std.proofs.lemmas.Bool.{and_from, and_parts, not-false, or_right}
use Rattle.es_tree.specs.Ancestors.{Ancestor, ancestor}
use Rattle.es_tree.specs.Attributes.{child_entries}
use Rattle.es_tree.specs.Bare.{bare, bare_field, bare_fields, bare_label, bare_trees}
use Rattle.es_tree.specs.CoreStaticRules.{has_optional, is_optional, is_simple_target}
use Rattle.es_tree.specs.HasForm.{ElementsPlace, element_form, elements_form, elements_of, field_form, fields_form, has_form, is_of_sort, match_option, same_type, sort_at, sort_before_fields, sort_before_trees, trees_form}
use Rattle.es_tree.specs.Names.{first_text, flag_at}
use Rattle.es_tree.specs.Parens.{without_parens}
use Rattle.es_tree.specs.Table.{own_kinds, rest_sort}
use Rattle.es_tree.specs.Tree.{Tree, node, Label, Fields, done, ◌then◌, Field, missing, one, many, statements, Trees, empty, ◌before◌, kind_of}
use Rattle.es_tree.specs.declared.ast_type.AstType.{AstType}
use Rattle.es_tree.specs.declared.ast_type.AstType.TheVariants.{AssignmentExpression, CallExpression, ChainExpression, MemberExpression, ObjectProperty, ParenthesizedExpression, PatternProperty, TargetProperty, UnaryExpression, UpdateExpression, VariableDeclaration, VariableDeclarator}
use Rattle.es_tree.specs.declared.options.EnvOptions.{EnvOptions}
use Rattle.es_tree.specs.declared.table.Content.{Content}
use Rattle.es_tree.specs.declared.table.Content.TheVariants.{Child as c-Child}
use Rattle.es_tree.specs.declared.table.Entry.{Entry}
use Rattle.es_tree.specs.declared.table.Often.TheVariants.{Required, Optional, List as a-List, NonEmptyList, ListWithRest, Statements}
use Rattle.es_tree.specs.declared.table.Sort.{Sort}
use Rattle.es_tree.specs.declared.table.Sort.TheVariants.{AssignmentTarget as s-AssignmentTarget, Binding as s-Binding, Expression as s-Expression, VariableDeclarator as s-VariableDeclarator}
use Rattle.es_tree.proofs.NodeForm.{node_form}
use Rattle.es_runs.specs.Alike.{key_need, needs, object_level, the_callee, unary_need}
use Rattle.es_runs.specs.Core.{flag, flag_after}
use Rattle.es_runs.specs.Core.UnaryClass.{asked_class, delete_class, not_class, typeof_class, void_class}
use Rattle.es_runs.specs.OptionalChaining.{is_chain_kind, takes_value}
use Rattle.es_steps.specs.Open.{OpenFields, is_body, is_statement_body, opened_fields}
use Rattle.es_steps.specs.Steps.{Site, site_in}
use Rattle.es_steps.proofs.FormMembers.{one-sort}
use Rattle.es_conditions.specs.CoreConditions.{accepts_chain, body_site, each_passes, each_passes_among, each_passes_by, each_passes_in, is_chain_inside, is_chain_placed, is_delete, is_taken_over}
use Rattle.es_conditions.proofs.Marks.{asked-where, second-flag}
use Rattle.es_valid_steps.specs.PlaceRules.{Keeps, KeepsAll, KeepsBy, KeepsHere, KeepsIn}

-- KINDS

no-expression : (s : Sort) (t : Tree) → has_form s t ≡ true → is_of_sort s ChainExpression ≡ false → is_of_sort s ParenthesizedExpression ≡ false → is_chain_inside t ≡ false
no-expression s (node ChainExpression l fs) h e d = absurd (true≢false (sym (node_form s ChainExpression l fs h).sort ∙ e))
no-expression s (node ParenthesizedExpression l fs) h e d = absurd (true≢false (sym (node_form s ParenthesizedExpression l fs h).sort ∙ d))
no-expression s (node k l fs) h e d = refl

chain-kind : (k : AstType) → is_chain_kind k ≡ true → k ≡ ChainExpression
chain-kind ChainExpression e = refl
chain-kind k e = absurd (true≢false (sym e))

chain-inside-self : (k : AstType) (l : Label) (fs : Fields) → is_chain_kind k ≡ true → is_chain_inside (node k l fs) ≡ true
chain-inside-self ChainExpression l fs e = refl
chain-inside-self k l fs e = absurd (true≢false (sym e))

-- what a spine with a mark begins with is no chain
optional-plain : (t : Tree) → has_optional t ≡ true → is_chain_inside t ≡ false
optional-plain (node MemberExpression l fs) e = refl
optional-plain (node CallExpression l fs) e = refl
optional-plain (node k l fs) e = absurd (true≢false (sym e))

-- TARGETS

simple-none : (a b : Bool) → a ≡ false → b ≡ false → not (a || b) ≡ false → ⊥
simple-none a b e d h = true≢false (sym (rw (e, d) refl) ∙ h)

no-target : (s : Sort) (t : Tree) → list_any (same_type ChainExpression) (own_kinds s) ≡ false → list_any (same_type ParenthesizedExpression) (own_kinds s) ≡ false →
    not (list_any (same_type (kind_of t)) (own_kinds s) || is_simple_target (kind_of (without_parens t))) ≡ false → is_chain_inside t ≡ true → ⊥
no-target s (node ChainExpression l fs) own paren bad c = simple-none (list_any (same_type ChainExpression) (own_kinds s)) false own refl bad
no-target s (node ParenthesizedExpression l (one t then fs)) own paren bad c =
    simple-none (list_any (same_type ParenthesizedExpression) (own_kinds s)) (is_simple_target (kind_of (without_parens t))) paren (ap is_simple_target (chain-kind (kind_of (without_parens t)) c)) bad
no-target s t own paren bad c = true≢false (sym c)

here-of : (up : List Ancestor) (t : Tree) → Keeps up t → KeepsHere up t
here-of up (node k l fs) h = h.0

target-own : (b : Bool) → (list_any (same_type ChainExpression) (own_kinds (if b then s-AssignmentTarget else s-Expression)) ≡ false) × (list_any (same_type ParenthesizedExpression) (own_kinds (if b then s-AssignmentTarget else s-Expression)) ≡ false)
target-own true = (refl, refl)
target-own false = (refl, refl)

-- LEVELS

unary-takes : (form a b c d : Bool) → (takes_value (unary_need form (if a then typeof_class else (if b then delete_class else (if c then void_class else (if d then not_class else asked_class))))).level || (b || false)) ≡ true
unary-takes form true b c d = refl
unary-takes form false true c d = refl
unary-takes form false false true d = refl
unary-takes form false false false true = refl
unary-takes form false false false false = refl

object-takes : (marked optional : Bool) → optional ≡ marked → (takes_value (object_level marked) || ((optional || false) || false)) ≡ true
object-takes true optional e = rw e refl
object-takes false optional e = refl

key-takes : (computed b : Bool) → (takes_value (key_need computed).level || b) ≡ true
key-takes true b = refl
key-takes false b = refl

module _ (o : EnvOptions) where
  abbrev pub chain_test : Site → AstType → Label → Fields → Bool
  chain_test n k l fs = is_chain_placed o n k

  -- a chain that this is can be lowered here
  abbrev Ok : Site → Tree → Type 0
  Ok n t = is_chain_inside t ≡ true → accepts_chain n ≡ true

  abbrev OkAll : Site → Trees → Type 0
  OkAll n empty = Unit {0}
  OkAll n (t before ts) = Ok n t × OkAll n ts

  abbrev OkBy : Site → Field → Type 0
  OkBy n missing = Unit {0}
  OkBy n (one t) = Ok n t
  OkBy n (many ts) = OkAll n ts
  OkBy n (statements ts) = OkAll n ts

  abbrev OkIn : (ℕ → Site) → Fields → Type 0
  OkIn sites done = Unit {0}
  OkIn sites (f then fs) = OkBy (sites zero) f × OkIn (λ i. sites (suc i)) fs

  all-ok : (n : Site) (ts : Trees) → accepts_chain n ≡ true → OkAll n ts
  all-ok n empty e = tt
  all-ok n (t before ts) e = (λ c. e, all-ok n ts e)

  any-ok : (n : Site) (f : Field) → accepts_chain n ≡ true → OkBy n f
  any-ok n missing e = tt
  any-ok n (one t) e = λ c. e
  any-ok n (many ts) e = all-ok n ts e
  any-ok n (statements ts) e = all-ok n ts e

  each-ok : (sites : ℕ → Site) (fs : Fields) → ((i : ℕ) → accepts_chain (sites i) ≡ true) → OkIn sites fs
  each-ok sites done e = tt
  each-ok sites (f then fs) e = (any-ok (sites zero) f (e zero), each-ok (λ i. sites (suc i)) fs (λ i. e (suc i)))

  declarators-ok : (n : Site) (ts : Trees) → trees_form s-VariableDeclarator s-VariableDeclarator ts ≡ true → OkAll n ts
  declarators-ok n empty h = tt
  declarators-ok n (t before ts) h =
      let parts = and_parts (has_form (sort_before_trees s-VariableDeclarator s-VariableDeclarator ts) t) (trees_form s-VariableDeclarator s-VariableDeclarator ts) h in
      (λ c. absurd (true≢false (sym c ∙ no-expression s-VariableDeclarator t (subst (λ (s : Sort). has_form s t ≡ true) (one-sort s-VariableDeclarator ts) parts.0) refl refl)), declarators-ok n ts parts.1)

  module _ (s : Sort) (up : List Ancestor) (n : Site) where
    abbrev field_site : AstType → Label → Fields → ℕ → Site
    field_site k l fs = site_in n k l (opened_fields (is_body k) fs)

    first-ok : (k : AstType) (l : Label) (f : Field) (fs : Fields) → has_form s (node k l (f then fs)) ≡ true → KeepsHere up (node k l (f then fs)) → KeepsBy (ancestor k l (f then fs) 0 0 ∷ up) f → Ok n (node k l (f then fs)) → OkBy (field_site k l (f then fs) 0) f
    first-ok ParenthesizedExpression l (one t) fs h keeps inside ok = ok
    first-ok ParenthesizedExpression l f fs h keeps inside ok = absurd (true≢false (sym (node_form s ParenthesizedExpression l (f then fs) h).children))
    first-ok ChainExpression l (one t) fs h keeps inside ok = λ c. absurd (true≢false (sym c ∙ optional-plain t (not-false (has_optional t) keeps.chain)))
    first-ok ChainExpression l f fs h keeps inside ok = absurd (true≢false (sym (node_form s ChainExpression l (f then fs) h).children))
    first-ok UnaryExpression l (one t) fs h keeps inside ok = λ c. unary-takes n.need.form (bytes_eq (first_text l.texts) (codes "typeof")) (bytes_eq (first_text l.texts) (codes "delete")) (bytes_eq (first_text l.texts) (codes "void")) (bytes_eq (first_text l.texts) (codes "!"))
    first-ok UnaryExpression l f fs h keeps inside ok = absurd (true≢false (sym (node_form s UnaryExpression l (f then fs) h).children))
    first-ok UpdateExpression l (one t) fs h keeps inside ok = λ c. absurd (no-target s-Expression t refl refl (here-of (ancestor UpdateExpression l (one t then fs) 0 0 ∷ up) t inside).target c)
    first-ok UpdateExpression l f fs h keeps inside ok = absurd (true≢false (sym (node_form s UpdateExpression l (f then fs) h).children))
    first-ok AssignmentExpression l (one t) fs h keeps inside ok = λ c. let own = target-own (bytes_eq (first_text l.texts) (codes "=")) in absurd (no-target (if bytes_eq (first_text l.texts) (codes "=") then s-AssignmentTarget else s-Expression) t own.0 own.1 (here-of (ancestor AssignmentExpression l (one t then fs) 0 0 ∷ up) t inside).target c)
    first-ok AssignmentExpression l f fs h keeps inside ok = absurd (true≢false (sym (node_form s AssignmentExpression l (f then fs) h).children))
    first-ok VariableDeclarator l (one t) fs h keeps inside ok = λ c. absurd (true≢false (sym c ∙ no-expression s-Binding t (and_parts (has_form s-Binding t) _ (node_form s VariableDeclarator l (one t then fs) h).children).0 refl refl))
    first-ok VariableDeclarator l f fs h keeps inside ok = absurd (true≢false (sym (node_form s VariableDeclarator l (f then fs) h).children))
    first-ok VariableDeclaration l (many (t before ts)) fs h keeps inside ok = declarators-ok (field_site VariableDeclaration l (many (t before ts) then fs) 0) (t before ts) (and_parts (trees_form s-VariableDeclarator s-VariableDeclarator (t before ts)) _ (node_form s VariableDeclaration l (many (t before ts) then fs) h).children).0
    first-ok VariableDeclaration l f fs h keeps inside ok = absurd (true≢false (sym (node_form s VariableDeclaration l (f then fs) h).children))
    first-ok MemberExpression l f fs h keeps inside ok = any-ok (field_site MemberExpression l (f then fs) 0) f (object-takes (flag_after l.flags) (flag_at 1 l.flags) (second-flag l.flags))
    first-ok CallExpression l f fs h keeps inside ok = any-ok (field_site CallExpression l (f then fs) 0) f (or_right (takes_value (the_callee (flag l.flags)).level) true refl)
    first-ok ObjectProperty l f fs h keeps inside ok = any-ok (field_site ObjectProperty l (f then fs) 0) f (key-takes (flag_at 2 l.flags) false)
    first-ok PatternProperty l f fs h keeps inside ok = any-ok (field_site PatternProperty l (f then fs) 0) f (key-takes (flag_at 1 l.flags) false)
    first-ok TargetProperty l f fs h keeps inside ok = any-ok (field_site TargetProperty l (f then fs) 0) f (key-takes (flag_at 1 l.flags) false)
    first-ok k l f fs h keeps inside ok = any-ok (field_site k l (f then fs) 0) f refl

    -- nodes with one field
    lone : (k : AstType) (l : Label) (a : Bool) (c : ℕ → Site) (fs : Fields) → (a && fields_form k l [] fs) ≡ true → OkIn c fs
    lone k l a c done h = tt
    lone k l a c (f then fs) h = absurd (true≢false (sym (and_parts a false h).1))

    later-ok : (k : AstType) (l : Label) (f : Field) (fs : Fields) → has_form s (node k l (f then fs)) ≡ true → OkIn (λ i. field_site k l (f then fs) (suc i)) fs
    later-ok ParenthesizedExpression l f fs h = lone ParenthesizedExpression l _ (λ i. field_site ParenthesizedExpression l (f then fs) (suc i)) fs (node_form s ParenthesizedExpression l (f then fs) h).children
    later-ok ChainExpression l f fs h = lone ChainExpression l _ (λ i. field_site ChainExpression l (f then fs) (suc i)) fs (node_form s ChainExpression l (f then fs) h).children
    later-ok UnaryExpression l f fs h = lone UnaryExpression l _ (λ i. field_site UnaryExpression l (f then fs) (suc i)) fs (node_form s UnaryExpression l (f then fs) h).children
    later-ok UpdateExpression l f fs h = lone UpdateExpression l _ (λ i. field_site UpdateExpression l (f then fs) (suc i)) fs (node_form s UpdateExpression l (f then fs) h).children
    later-ok VariableDeclaration l f fs h = lone VariableDeclaration l _ (λ i. field_site VariableDeclaration l (f then fs) (suc i)) fs (node_form s VariableDeclaration l (f then fs) h).children
    later-ok MemberExpression l f fs h = each-ok (λ i. field_site MemberExpression l (f then fs) (suc i)) fs (λ i. key-takes (flag l.flags) (is_taken_over (field_site MemberExpression l (f then fs) (suc i)).above))
    later-ok k l f fs h = each-ok (λ i. field_site k l (f then fs) (suc i)) fs (λ i. refl)

    children-ok : (k : AstType) (l : Label) (fs : Fields) → has_form s (node k l fs) ≡ true → Keeps up (node k l fs) → Ok n (node k l fs) → OkIn (field_site k l fs) fs
    children-ok k l done h keeps ok = tt
    children-ok k l (f then fs) h keeps ok = (first-ok k l f fs h keeps.0 keeps.1.0 ok, later-ok k l f fs h)

  -- EACH NODE

  own-placed : (n : Site) (k : AstType) (l : Label) (fs : Fields) → Ok n (node k l fs) → is_chain_placed o n k ≡ true
  own-placed n k l fs ok = asked-where o.es2020.optional_chaining (is_chain_kind k) (accepts_chain n) (λ on c. ok (chain-inside-self k l fs c))

  ok-body : (n : Site) (b : Bool) (t : Tree) → Ok n t → Ok (body_site n b t) t
  ok-body n true t ok = ok
  ok-body n false t ok = ok

  one-passes : (n : Site) (b : Bool) (t : Tree) → Ok n t → ((m : Site) → Ok m t → each_passes chain_test m t ≡ true) → each_passes_by chain_test n b (one t) ≡ true
  one-passes n true t ok h = h (body_site n (is_statement_body t) t) (ok-body n (is_statement_body t) t ok)
  one-passes n false t ok h = h n ok

  many-passes : (n : Site) (b : Bool) (ts : Trees) → each_passes_among chain_test n ts ≡ true → each_passes_by chain_test n b (many ts) ≡ true
  many-passes n true ts h = h
  many-passes n false ts h = h

  -- the fields of a node have form by the table, or as the elements of an array
  by-table : (X : Type 0) (k : AstType) (l : Label) (fs : Fields) (p : Option ElementsPlace) → (fields_form k l (child_entries k) fs ≡ true → X) → ((s last : Sort) → elements_form s last fs ≡ true → X) →
      match_option p (fields_form k l (child_entries k) fs) (λ p. elements_form p.sort p.last fs) ≡ true → X
  by-table X k l fs None entries elements h = entries h
  by-table X k l fs (Some p) entries elements h = elements p.sort p.last h

  mutual
    pub placed-tree : (s : Sort) (up : List Ancestor) (n : Site) (t : Tree) → has_form s t ≡ true → Keeps up t → Ok n t → each_passes chain_test n t ≡ true
    placed-tree s up n (node k l fs) h keeps ok =
        and_from (is_chain_placed o n k) (each_passes_in chain_test (site_in n k l (opened_fields (is_body k) fs)) (is_body k) fs) (own-placed n k l fs ok)
        (by-table (each_passes_in chain_test (site_in n k l (opened_fields (is_body k) fs)) (is_body k) fs ≡ true) k l fs (elements_of (child_entries k))
        (λ e. placed-entries up k l fs 0 (child_entries k) (site_in n k l (opened_fields (is_body k) fs)) (is_body k) fs e keeps.1 (children-ok s up n k l fs h keeps ok))
        (λ a last e. placed-elements up k l fs 0 a last (site_in n k l (opened_fields (is_body k) fs)) (is_body k) fs e keeps.1 (children-ok s up n k l fs h keeps ok))
        (node_form s k l fs h).children)

    placed-entries : (up : List Ancestor) (k : AstType) (l : Label) (all : Fields) (i : ℕ) (es : List Entry) (sites : ℕ → Site) (bodies : ℕ → Bool) (fs : Fields) → fields_form k l es fs ≡ true → KeepsIn up k l all i fs → OkIn sites fs → each_passes_in chain_test sites bodies fs ≡ true
    placed-entries up k l all i es sites bodies done h keeps ok = refl
    placed-entries up k l all i [] sites bodies (f then fs) h keeps ok = absurd (true≢false (sym h))
    placed-entries up k l all i (e ∷ es) sites bodies (f then fs) h keeps ok =
        let parts = and_parts (field_form k l e.content f) (fields_form k l es fs) h in
        and_from (each_passes_by chain_test (sites zero) (bodies zero) f) (each_passes_in chain_test (λ j. sites (suc j)) (λ j. bodies (suc j)) fs)
        (placed-content (ancestor k l all i 0 ∷ up) k l e.content (sites zero) (bodies zero) f parts.0 keeps.0 ok.0) (placed-entries up k l all (suc i) es (λ j. sites (suc j)) (λ j. bodies (suc j)) fs parts.1 keeps.1 ok.1)

    placed-content : (up : List Ancestor) (k : AstType) (l : Label) (c : Content) (n : Site) (b : Bool) (f : Field) → field_form k l c f ≡ true → KeepsBy up f → OkBy n f → each_passes_by chain_test n b f ≡ true
    placed-content up k l (c-Child s Required) n b (one t) h keeps ok = one-passes n b t ok (λ m here. placed-tree (sort_at k l s) up m t h keeps here)
    placed-content up k l (c-Child s Optional) n true missing h keeps ok = refl
    placed-content up k l (c-Child s Optional) n false missing h keeps ok = refl
    placed-content up k l (c-Child s Optional) n b (one t) h keeps ok = one-passes n b t ok (λ m here. placed-tree (sort_at k l s) up m t h keeps here)
    placed-content up k l (c-Child s a-List) n b (many ts) h keeps ok = many-passes n b ts (placed-trees s s up n ts h keeps ok)
    placed-content up k l (c-Child s NonEmptyList) n b (many empty) h keeps ok = absurd (true≢false (sym h))
    placed-content up k l (c-Child s NonEmptyList) n b (many (t before ts)) h keeps ok = many-passes n b (t before ts) (placed-trees s s up n (t before ts) h keeps ok)
    placed-content up k l (c-Child s ListWithRest) n b (many ts) h keeps ok = many-passes n b ts (placed-trees s (rest_sort s) up n ts h keeps ok)
    placed-content up k l (c-Child s Statements) n true (statements ts) h keeps ok = placed-trees s s up n ts h keeps ok
    placed-content up k l (c-Child s Statements) n false (statements ts) h keeps ok = placed-trees s s up n ts h keeps ok
    placed-content up k l c n b f h keeps ok = absurd (true≢false (sym h))

    placed-trees : (s last : Sort) (up : List Ancestor) (n : Site) (ts : Trees) → trees_form s last ts ≡ true → KeepsAll up ts → OkAll n ts → each_passes_among chain_test n ts ≡ true
    placed-trees s last up n empty h keeps ok = refl
    placed-trees s last up n (t before ts) h keeps ok =
        let parts = and_parts (has_form (sort_before_trees s last ts) t) (trees_form s last ts) h in
        and_from (each_passes chain_test n t) (each_passes_among chain_test n ts) (placed-tree (sort_before_trees s last ts) up n t parts.0 keeps.0 ok.0) (placed-trees s last up n ts parts.1 keeps.1 ok.1)

    placed-elements : (up : List Ancestor) (k : AstType) (l : Label) (all : Fields) (i : ℕ) (s last : Sort) (sites : ℕ → Site) (bodies : ℕ → Bool) (fs : Fields) → elements_form s last fs ≡ true → KeepsIn up k l all i fs → OkIn sites fs → each_passes_in chain_test sites bodies fs ≡ true
    placed-elements up k l all i s last sites bodies done h keeps ok = refl
    placed-elements up k l all i s last sites bodies (f then fs) h keeps ok =
        let parts = and_parts (element_form (sort_before_fields s last fs) f) (elements_form s last fs) h in
        and_from (each_passes_by chain_test (sites zero) (bodies zero) f) (each_passes_in chain_test (λ j. sites (suc j)) (λ j. bodies (suc j)) fs)
        (placed-element (sort_before_fields s last fs) (ancestor k l all i 0 ∷ up) (sites zero) (bodies zero) f parts.0 keeps.0 ok.0) (placed-elements up k l all (suc i) s last (λ j. sites (suc j)) (λ j. bodies (suc j)) fs parts.1 keeps.1 ok.1)

    placed-element : (s : Sort) (up : List Ancestor) (n : Site) (b : Bool) (f : Field) → element_form s f ≡ true → KeepsBy up f → OkBy n f → each_passes_by chain_test n b f ≡ true
    placed-element s up n true missing h keeps ok = refl
    placed-element s up n false missing h keeps ok = refl
    placed-element s up n b (one t) h keeps ok = one-passes n b t ok (λ m here. placed-tree s up m t h keeps here)
    placed-element s up n b (many ts) h keeps ok = absurd (true≢false (sym h))
    placed-element s up n b (statements ts) h keeps ok = absurd (true≢false (sym h))

  -- WITHOUT IDS AND MARKS of tables, from where chains are lowered alike

  pub record Alike (n m : Site) : Type 0 where
    pub need : m.need ≡ n.need
    pub taken : is_taken_over m.above ≡ is_taken_over n.above

  pub alike-self : (n : Site) → Alike n n
  alike-self n = record { need = refl; taken = refl }

  optional-same : (k : AstType) (l : Label) → is_optional k (bare_label l) ≡ is_optional k l
  optional-same MemberExpression l = refl
  optional-same CallExpression l = refl
  optional-same k l = refl

  delete-same : (k : AstType) (l : Label) → is_delete k (bare_label l) ≡ is_delete k l
  delete-same UnaryExpression l = refl
  delete-same k l = refl

  abbrev leads_at : AstType → ℕ → AstType → Bool
  leads_at k i j = same_type k j && i == 0

  alike-in : (n m : Site) (k : AstType) (l : Label) (fs gs : OpenFields) (i : ℕ) → Alike n m → Alike (site_in n k l fs i) (site_in m k (bare_label l) gs i)
  alike-in n m k l fs gs i h = record {
    need = ap (λ d. needs d k l.texts l.flags i) h.need;
    taken = λ j. ((leads_at k i CallExpression || (leads_at k i MemberExpression && optional-same k l j)) || (leads_at k i UnaryExpression && delete-same k l j)) || (leads_at k i ParenthesizedExpression && h.taken j);
  }

  alike-body : (n m : Site) (b c : Bool) (t u : Tree) → Alike n m → Alike (body_site n b t) (body_site m c u)
  alike-body n m true true t u h = record { need = h.need; taken = h.taken }
  alike-body n m true false t u h = record { need = h.need; taken = h.taken }
  alike-body n m false true t u h = record { need = h.need; taken = h.taken }
  alike-body n m false false t u h = record { need = h.need; taken = h.taken }

  mutual
    pub passes-bare : (n m : Site) (t : Tree) → Alike n m → each_passes chain_test m (bare t) ≡ each_passes chain_test n t
    passes-bare n m (node k l fs) h =
        λ i. (not (o.es2020.optional_chaining && is_chain_kind k) || (takes_value (h.need i).level || h.taken i)) && passes-in-bare (site_in n k l (opened_fields (is_body k) fs)) (site_in m k (bare_label l) (opened_fields (is_body k) (bare_fields fs))) (is_body k) fs (λ j. alike-in n m k l (opened_fields (is_body k) fs) (opened_fields (is_body k) (bare_fields fs)) j h) i

    passes-in-bare : (c d : ℕ → Site) (bodies : ℕ → Bool) (fs : Fields) → ((i : ℕ) → Alike (c i) (d i)) → each_passes_in chain_test d bodies (bare_fields fs) ≡ each_passes_in chain_test c bodies fs
    passes-in-bare c d bodies done h = refl
    passes-in-bare c d bodies (f then fs) h = λ i. passes-by-bare (c zero) (d zero) (bodies zero) f (h zero) i && passes-in-bare (λ j. c (suc j)) (λ j. d (suc j)) (λ j. bodies (suc j)) fs (λ j. h (suc j)) i

    passes-by-bare : (n m : Site) (b : Bool) (f : Field) → Alike n m → each_passes_by chain_test m b (bare_field f) ≡ each_passes_by chain_test n b f
    passes-by-bare n m true missing h = refl
    passes-by-bare n m false missing h = refl
    passes-by-bare n m true (one t) h = passes-bare (body_site n (is_statement_body t) t) (body_site m (is_statement_body (bare t)) (bare t)) t (alike-body n m (is_statement_body t) (is_statement_body (bare t)) t (bare t) h)
    passes-by-bare n m false (one t) h = passes-bare n m t h
    passes-by-bare n m true (many ts) h = passes-among-bare n m ts h
    passes-by-bare n m false (many ts) h = passes-among-bare n m ts h
    passes-by-bare n m true (statements ts) h = passes-among-bare n m ts h
    passes-by-bare n m false (statements ts) h = passes-among-bare n m ts h

    passes-among-bare : (n m : Site) (ts : Trees) → Alike n m → each_passes_among chain_test m (bare_trees ts) ≡ each_passes_among chain_test n ts
    passes-among-bare n m empty h = refl
    passes-among-bare n m (t before ts) h = λ i. passes-bare n m t h i && passes-among-bare n m ts h i
