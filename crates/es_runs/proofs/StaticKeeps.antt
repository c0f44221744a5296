-- The static rules of a tree at its place, apart from its names: each visit keeps each rule exactly where each node keeps
-- those that look at no earlier name, and the names that the visits declare don't clash.
use Rattle.std.proofs.Common.{◌≡◌, ℕ, zero, suc, refl, subst, List, [], ◌∷◌, ◌++◌}
use Rattle.std.specs.Prelude.{Bool, true, false, ◌||◌, not}
use Rattle.std.specs.List.{list_any}
use Rattle.es_tree.specs.CoreStaticRules.{first_place, place_in, Visit, visits, visits_in_fields, visits_in_field, visits_in_trees, Name, declared, clashes, is_bad_target, is_empty_chain, is_stray_optional, is_bad_delete, is_missing_init, is_broken, KeepRules}
use Rattle.es_tree.specs.HasForm.{same_type}
use Rattle.es_tree.specs.Table.{own_kinds}
use Rattle.es_tree.specs.Tree.{Tree, node, Label, Fields, done, ◌then◌, Field, missing, one, many, statements, Trees, empty, ◌before◌}
use Rattle.es_tree.specs.declared.ast_type.AstType.{AstType}
use Rattle.es_tree.specs.declared.ast_type.AstType.TheVariants.{AssignmentExpression, CallExpression, ChainExpression, Identifier, MemberExpression, UnaryExpression, VariableDeclarator}
use Rattle.es_tree.specs.declared.error.Rule.{Rule}
use Rattle.es_tree.specs.declared.error.Rule.TheVariants.{DuplicateName, BadTarget, EmptyChain, StrayOptional, DeleteName, MissingInit}
use Rattle.es_tree.specs.declared.place.Place.{Place}
use Rattle.es_tree.specs.declared.place.Place.TheVariants.{Other, ProgramBody, Spine, Target, Declarator, Declared}
use Rattle.es_tree.specs.declared.table.Sort.{Sort}
use Rattle.es_runs.specs.Rules.{null_node, void_zero_node}
use Rattle.es_runs.specs.Runs.{made}
use Rattle.es_runs.proofs.Named.{or_both, or_first}
use Rattle.es_runs.proofs.RowFacts.{Each, each_first, each_second, each_both}

-- THE RULES OF ONE NODE

-- a node that stands here keeps each rule that looks at no earlier name
pub record Own (p : Place) (t : Tree) : Type 0 where
  pub target : is_bad_target p t ≡ false
  pub chain : is_empty_chain t ≡ false
  pub mark : is_stray_optional p t ≡ false
  pub deleted : is_bad_delete t ≡ false
  pub value : is_missing_init p t ≡ false

abbrev mutual
  -- each node of a tree that stands here keeps them
  pub Keeps : Place → Tree → Type 0
  Keeps p (node k l fs) = Own p (node k l fs) × KeepsFields p k l 0 fs

  -- those of the fields of a node, from the n-th on
  pub KeepsFields : Place → AstType → Label → ℕ → Fields → Type 0
  KeepsFields p k l n done = Unit {0}
  KeepsFields p k l n (f then fs) = KeepsField (place_in p k l n) f × KeepsFields p k l (suc n) fs

  pub KeepsField : Place → Field → Type 0
  KeepsField p missing = Unit {0}
  KeepsField p (one t) = Keeps p t
  KeepsField p (many ts) = KeepsTrees p ts
  KeepsField p (statements ts) = KeepsTrees p ts

  pub KeepsTrees : Place → Trees → Type 0
  KeepsTrees p empty = Unit {0}
  KeepsTrees p (t before ts) = Keeps p t × KeepsTrees p ts

-- NAMES

-- what these visits declare
abbrev pub names_in : List Visit → List Name
names_in [] = []
names_in (v ∷ vs) = declared v.place v.tree ++ names_in vs

-- after these names, the latest first, none of the names clashes with an earlier one
abbrev pub Agree : List Name → List Name → Type 0
Agree earlier [] = Unit {0}
Agree earlier (n ∷ ns) = (clashes earlier n ≡ false) × Agree (n ∷ earlier) ns

-- one visit declares one name at most
data AtMostOne : List Name → Type 0 where
  no_name : AtMostOne []
  one_name : (n : Name) → AtMostOne (n ∷ [])

declared_once : (p : Place) (t : Tree) → AtMostOne (declared p t)
declared_once (Declared lexical) (node Identifier l fs) = one_name _
declared_once (Declared lexical) (node _ l fs) = no_name
declared_once Other t = no_name
declared_once ProgramBody t = no_name
declared_once Spine t = no_name
declared_once (Target s) t = no_name
declared_once (Declarator top lexical constant) t = no_name

agree_more : (earlier ns rest : List Name) → AtMostOne ns → list_any (clashes earlier) ns ≡ false → Agree (ns ++ earlier) rest → Agree earlier (ns ++ rest)
agree_more earlier _ rest no_name e h = h
agree_more earlier _ rest (one_name n) e h = (or_first (clashes earlier n) false e, h)

agree_none : (earlier ns rest : List Name) → AtMostOne ns → Agree earlier (ns ++ rest) → list_any (clashes earlier) ns ≡ false
agree_none earlier _ rest no_name h = refl
agree_none earlier _ rest (one_name n) h = or_both (clashes earlier n) false h.0 refl

agree_less : (earlier ns rest : List Name) → AtMostOne ns → Agree earlier (ns ++ rest) → Agree (ns ++ earlier) rest
agree_less earlier _ rest no_name h = h
agree_less earlier _ rest (one_name n) h = h.1

-- FROM VISITS TO BOTH

abbrev pub OwnOf : Visit → Type 0
OwnOf v = Own v.place v.tree

own_of_rules : (earlier : List Name) (p : Place) (t : Tree) → ((r : Rule) → is_broken earlier p t r ≡ false) → Own p t
own_of_rules earlier p t h = record { target = h BadTarget; chain = h EmptyChain; mark = h StrayOptional; deleted = h DeleteName; value = h MissingInit }

rules_of_own : (earlier : List Name) (p : Place) (t : Tree) → Own p t → list_any (clashes earlier) (declared p t) ≡ false → (r : Rule) → is_broken earlier p t r ≡ false
rules_of_own earlier p t h e DuplicateName = e
rules_of_own earlier p t h e BadTarget = h.target
rules_of_own earlier p t h e EmptyChain = h.chain
rules_of_own earlier p t h e StrayOptional = h.mark
rules_of_own earlier p t h e DeleteName = h.deleted
rules_of_own earlier p t h e MissingInit = h.value
rules_of_own earlier p t h e _ = refl

pub each_own : (earlier : List Name) (vs : List Visit) → KeepRules earlier vs → Each OwnOf vs
each_own earlier [] k = tt
each_own earlier (v ∷ vs) k = (own_of_rules earlier v.place v.tree k.0, each_own (declared v.place v.tree ++ earlier) vs k.1)

pub names_agree : (earlier : List Name) (vs : List Visit) → KeepRules earlier vs → Agree earlier (names_in vs)
names_agree earlier [] k = tt
names_agree earlier (v ∷ vs) k =
    agree_more earlier (declared v.place v.tree) (names_in vs) (declared_once v.place v.tree) (k.0 DuplicateName) (names_agree (declared v.place v.tree ++ earlier) vs k.1)

pub both_keep : (earlier : List Name) (vs : List Visit) → Each OwnOf vs → Agree earlier (names_in vs) → KeepRules earlier vs
both_keep earlier [] h g = tt
both_keep earlier (v ∷ vs) h g =
    let once = declared_once v.place v.tree in
    (rules_of_own earlier v.place v.tree h.0 (agree_none earlier (declared v.place v.tree) (names_in vs) once g), both_keep (declared v.place v.tree ++ earlier) vs h.1 (agree_less earlier (declared v.place v.tree) (names_in vs) once g))

mutual
  pub keeps_visits : (p : Place) (t : Tree) → Keeps p t → Each OwnOf (visits p t)
  keeps_visits p (node k l fs) h = (h.0, keeps_visits_fields p k l 0 fs h.1)

  keeps_visits_fields : (p : Place) (k : AstType) (l : Label) (n : ℕ) (fs : Fields) → KeepsFields p k l n fs → Each OwnOf (visits_in_fields p k l n fs)
  keeps_visits_fields p k l n done h = tt
  keeps_visits_fields p k l n (f then fs) h = each_both OwnOf (visits_in_field (place_in p k l n) f) (visits_in_fields p k l (suc n) fs) (keeps_visits_field (place_in p k l n) f h.0) (keeps_visits_fields p k l (suc n) fs h.1)

  keeps_visits_field : (p : Place) (f : Field) → KeepsField p f → Each OwnOf (visits_in_field p f)
  keeps_visits_field p missing h = tt
  keeps_visits_field p (one t) h = keeps_visits p t h
  keeps_visits_field p (many ts) h = keeps_visits_trees p ts h
  keeps_visits_field p (statements ts) h = keeps_visits_trees p ts h

  keeps_visits_trees : (p : Place) (ts : Trees) → KeepsTrees p ts → Each OwnOf (visits_in_trees p ts)
  keeps_visits_trees p empty h = tt
  keeps_visits_trees p (t before ts) h = each_both OwnOf (visits p t) (visits_in_trees p ts) (keeps_visits p t h.0) (keeps_visits_trees p ts h.1)

mutual
  pub visits_keep : (p : Place) (t : Tree) → Each OwnOf (visits p t) → Keeps p t
  visits_keep p (node k l fs) h = (h.0, visits_keep_fields p k l 0 fs h.1)

  visits_keep_fields : (p : Place) (k : AstType) (l : Label) (n : ℕ) (fs : Fields) → Each OwnOf (visits_in_fields p k l n fs) → KeepsFields p k l n fs
  visits_keep_fields p k l n done h = tt
  visits_keep_fields p k l n (f then fs) h =
      (visits_keep_field (place_in p k l n) f (each_first OwnOf (visits_in_field (place_in p k l n) f) (visits_in_fields p k l (suc n) fs) h), visits_keep_fields p k l (suc n) fs (each_second OwnOf (visits_in_field (place_in p k l n) f) (visits_in_fields p k l (suc n) fs) h))

  visits_keep_field : (p : Place) (f : Field) → Each OwnOf (visits_in_field p f) → KeepsField p f
  visits_keep_field p missing h = tt
  visits_keep_field p (one t) h = visits_keep p t h
  visits_keep_field p (many ts) h = visits_keep_trees p ts h
  visits_keep_field p (statements ts) h = visits_keep_trees p ts h

  visits_keep_trees : (p : Place) (ts : Trees) → Each OwnOf (visits_in_trees p ts) → KeepsTrees p ts
  visits_keep_trees p empty h = tt
  visits_keep_trees p (t before ts) h = (visits_keep p t (each_first OwnOf (visits p t) (visits_in_trees p ts) h), visits_keep_trees p ts (each_second OwnOf (visits p t) (visits_in_trees p ts) h))

-- FROM PLACE TO PLACE

-- the place of a node counts for its first field alone
pub later_same : (p q : Place) (k : AstType) (l : Label) (n : ℕ) (fs : Fields) → KeepsFields p k l (suc n) fs → KeepsFields q k l (suc n) fs
later_same p q k l n done h = tt
later_same p q k l zero (f then fs) h = (h.0, later_same p q k l (suc zero) fs h.1)
later_same p q k l (suc n) (f then fs) h = (h.0, later_same p q k l (suc (suc n)) fs h.1)

pub moved_fields : (p q : Place) (k : AstType) (l : Label) (fs : Fields) → first_place p k l ≡ first_place q k l → KeepsFields p k l 0 fs → KeepsFields q k l 0 fs
moved_fields p q k l done e h = tt
moved_fields p q k l (f then fs) e h = (subst (λ c. KeepsField c f) e h.0, later_same p q k l 0 fs h.1)

-- a declarator asks for a value only in a declaration
abbrev pub is_quiet : Place → Bool
is_quiet (Declarator top lexical constant) = false
is_quiet _ = true

pub quiet_value : (p : Place) (t : Tree) → is_quiet p ≡ true → is_missing_init p t ≡ false
quiet_value (Declarator top lexical constant) t h = absurd (cc h)
quiet_value Other (node VariableDeclarator l fs) h = refl
quiet_value ProgramBody (node VariableDeclarator l fs) h = refl
quiet_value Spine (node VariableDeclarator l fs) h = refl
quiet_value (Target s) (node VariableDeclarator l fs) h = refl
quiet_value (Declared lexical) (node VariableDeclarator l fs) h = refl
quiet_value p (node _ l fs) h = refl

mutual
  -- where a node keeps the rules anywhere else, it keeps them on the spine of a chain
  pub to_spine : (t : Tree) → Keeps Other t → Keeps Spine t
  to_spine (node k l fs) h = (record { target = refl; chain = h.0.chain; mark = refl; deleted = h.0.deleted; value = quiet_value Spine (node k l fs) refl }, fields_to_spine k l fs h.1)

  fields_to_spine : (k : AstType) (l : Label) (fs : Fields) → KeepsFields Other k l 0 fs → KeepsFields Spine k l 0 fs
  fields_to_spine k l done h = tt
  fields_to_spine MemberExpression l (f then fs) h = (field_to_spine f h.0, later_same Other Spine MemberExpression l 0 fs h.1)
  fields_to_spine CallExpression l (f then fs) h = (field_to_spine f h.0, later_same Other Spine CallExpression l 0 fs h.1)
  fields_to_spine k l (f then fs) h = (h.0, later_same Other Spine k l 0 fs h.1)

  field_to_spine : (f : Field) → KeepsField Other f → KeepsField Spine f
  field_to_spine missing h = tt
  field_to_spine (one t) h = to_spine t h
  field_to_spine (many ts) h = trees_to_spine ts h
  field_to_spine (statements ts) h = trees_to_spine ts h

  trees_to_spine : (ts : Trees) → KeepsTrees Other ts → KeepsTrees Spine ts
  trees_to_spine empty h = tt
  trees_to_spine (t before ts) h = (to_spine t h.0, trees_to_spine ts h.1)

-- MADE NODES

-- a node of another kind than these keeps the rules by itself
abbrev pub is_free_kind : AstType → Bool
is_free_kind VariableDeclarator = false
is_free_kind MemberExpression = false
is_free_kind CallExpression = false
is_free_kind ChainExpression = false
is_free_kind UnaryExpression = false
is_free_kind _ = true

pub free_own : (k : AstType) (l : Label) (fs : Fields) → is_free_kind k ≡ true → Own Other (node k l fs)
free_own VariableDeclarator l fs h = absurd (cc h)
free_own MemberExpression l fs h = absurd (cc h)
free_own CallExpression l fs h = absurd (cc h)
free_own ChainExpression l fs h = absurd (cc h)
free_own UnaryExpression l fs h = absurd (cc h)
free_own _ l fs h = record { target = refl; chain = refl; mark = refl; deleted = refl; value = refl }

pub name_keeps : (l : Label) → Keeps Other (node Identifier l done)
name_keeps l = (free_own Identifier l done refl, tt)

pub name_target : (s : Sort) (l : Label) → Keeps (Target s) (node Identifier l done)
name_target s l = (record { target = simple (list_any (same_type Identifier) (own_kinds s)); chain = refl; mark = refl; deleted = refl; value = refl }, tt)
  where
    simple : (b : Bool) → not (b || true) ≡ false
    simple true = refl
    simple false = refl

pub assigns : (n : Label) (t q : Tree) → ((s : Sort) → Keeps (Target s) t) → Keeps Other q → Keeps Other (node AssignmentExpression n (one t then (one q then done)))
assigns n t q h g = (free_own AssignmentExpression n _ refl, (h _, (g, tt)))

pub null_keeps : Keeps Other null_node
null_keeps = (free_own _ _ _ refl, tt)

pub zero_keeps : Keeps Other void_zero_node
zero_keeps = (record { target = refl; chain = refl; mark = refl; deleted = refl; value = refl }, ((free_own _ _ _ refl, tt), tt))

pub member_keeps : (computed : Bool) (o k : Tree) → Keeps Other o → Keeps Other k → Keeps Other (node MemberExpression (made [] (computed ∷ false ∷ [])) (one o then (one k then done)))
member_keeps computed o k h g = (record { target = refl; chain = refl; mark = refl; deleted = refl; value = refl }, (h, (g, tt)))
