-- What is kept where one place of a tree is changed: tests of every node, and that no call leaves out the keys that a name holds.
use Rattle.std.proofs.Common.{◌≡◌, refl, ap, ◌∙◌, []}
use Rattle.std.proofs.lemmas.Bool.{and_from, and_parts}
use Rattle.std.specs.Prelude.{Bool, true, not, ◌&&◌, codes}
use Rattle.es_tree.specs.Scopes.{own_text}
use Rattle.es_tree.specs.Tree.{Tree, node, Label, Fields, done, ◌then◌, Field, missing, one, many, statements, Trees, empty, ◌before◌}
use Rattle.es_tree.specs.Walks.{all_nodes, all_in_field, all_in_fields, all_in_trees}
use Rattle.es_tree.specs.Words.{Text}
use Rattle.es_tree.specs.declared.ast_type.AstType.{AstType}
use Rattle.es_tree.specs.declared.ast_type.AstType.TheVariants.{CallExpression, Identifier, MemberExpression, VariableDeclaration}
use Rattle.es_statement_runs.specs.Helpers.{is_helper, is_this_name}
use Rattle.es_statement_runs.specs.Helpers.Supply.{by_global}
use Rattle.es_statement_runs.specs.Names.{is_word}
use Rattle.es_rest_runs.specs.Changing.{Changed, ChangedAmong, ChangedBy, ChangedIn}
use Rattle.es_rest_runs.specs.Changing.Changed.{below, here}
use Rattle.es_rest_runs.specs.Changing.ChangedAmong.{head_of, tail_of}
use Rattle.es_rest_runs.specs.Changing.ChangedBy.{many_of, one_of, statements_of}
use Rattle.es_rest_runs.specs.Changing.ChangedIn.{first_of, later_of}
use Rattle.es_rest_runs.specs.Laws.{excludes_no_name, is_a_name}

-- TESTS of every node, where the place keeps them, and a node does when its fields change so

module _ (A : Tree → Tree → Type 0) (c : AstType → Label → Fields → Bool) (kept : (a b : Tree) → A a b → all_nodes c a ≡ true → all_nodes c b ≡ true)
    (still : (k : AstType) (l : Label) (fs gs : Fields) → ChangedIn A fs gs → c k l fs ≡ true → c k l gs ≡ true) where
  mutual
    pub nodes_kept : {a b : Tree} → Changed A a b → all_nodes c a ≡ true → all_nodes c b ≡ true
    nodes_kept (here {a = a} {b = b} h) t = kept a b h t
    nodes_kept (below {k = k} {l = l} {fs = fs} {gs = gs} h) t = let d = and_parts (c k l fs) (all_in_fields c fs) t in and_from (c k l gs) (all_in_fields c gs) (still k l fs gs h d.0) (kept_in h d.1)

    kept_in : {fs gs : Fields} → ChangedIn A fs gs → all_in_fields c fs ≡ true → all_in_fields c gs ≡ true
    kept_in (first_of {f = f} {g = g} {fs = fs} h) t = let d = and_parts (all_in_field c f) (all_in_fields c fs) t in and_from (all_in_field c g) (all_in_fields c fs) (kept_by h d.0) d.1
    kept_in (later_of {f = f} {fs = fs} {gs = gs} h) t = let d = and_parts (all_in_field c f) (all_in_fields c fs) t in and_from (all_in_field c f) (all_in_fields c gs) d.0 (kept_in h d.1)

    kept_by : {f g : Field} → ChangedBy A f g → all_in_field c f ≡ true → all_in_field c g ≡ true
    kept_by (one_of h) t = nodes_kept h t
    kept_by (many_of h) t = kept_among h t
    kept_by (statements_of h) t = kept_among h t

    kept_among : {ts us : Trees} → ChangedAmong A ts us → all_in_trees c ts ≡ true → all_in_trees c us ≡ true
    kept_among (head_of {a = a} {b = b} {ts = ts} h) t = let d = and_parts (all_nodes c a) (all_in_trees c ts) t in and_from (all_nodes c b) (all_in_trees c ts) (nodes_kept h d.0) d.1
    kept_among (tail_of {a = a} {ts = ts} {us = us} h) t = let d = and_parts (all_nodes c a) (all_in_trees c ts) t in and_from (all_nodes c a) (all_in_trees c us) d.0 (kept_among h d.1)

-- NO CALL LEAVES OUT THE KEYS OF A NAME, where declarations of the same word change

pub data Redeclared : Tree → Tree → Type 0 where
  redeclared : (m : Label) (fs gs : Fields) → Redeclared (node VariableDeclaration m fs) (node VariableDeclaration m gs)

abbrev without_ : Text
without_ = codes "objectWithoutProperties"

abbrev calls_it : Tree → Bool
calls_it f = is_helper by_global [] without_ f

module _ (A : Tree → Tree → Type 0) (same : (a b : Tree) → A a b → Redeclared a b) where
  own_of : {a b : Tree} → Redeclared a b → own_text b ≡ own_text a
  own_of (redeclared m fs gs) = refl

  own_same : {a b : Tree} → Changed A a b → own_text b ≡ own_text a
  own_same (here {a = a} {b = b} h) = own_of (same a b h)
  own_same (below h) = refl

  name_of : (x : Text) {a b : Tree} → Redeclared a b → is_this_name x b ≡ is_this_name x a
  name_of x (redeclared m fs gs) = refl

  name_same : (x : Text) {a b : Tree} → Changed A a b → is_this_name x b ≡ is_this_name x a
  name_same x (here {a = a} {b = b} h) = name_of x (same a b h)
  name_same x (below {k = Identifier} h) = refl
  name_same x (below h) = refl

  member_same : {fs gs : Fields} (l : Label) → ChangedIn A fs gs → calls_it (node MemberExpression l gs) ≡ calls_it (node MemberExpression l fs)
  member_same l (first_of {fs = one x then fs} (one_of h)) = ap (λ b. b && is_word without_ (own_text x)) (name_same (codes "babelHelpers") h)
  member_same l (first_of {fs = done} (one_of h)) = refl
  member_same l (first_of {fs = missing then fs} (one_of h)) = refl
  member_same l (first_of {fs = many ts then fs} (one_of h)) = refl
  member_same l (first_of {fs = statements ts then fs} (one_of h)) = refl
  member_same l (first_of (many_of h)) = refl
  member_same l (first_of (statements_of h)) = refl
  member_same l (later_of {f = one o} (first_of (one_of h))) = ap (λ t. is_this_name (codes "babelHelpers") o && is_word without_ t) (own_same h)
  member_same l (later_of {f = one o} (first_of (many_of h))) = refl
  member_same l (later_of {f = one o} (first_of (statements_of h))) = refl
  member_same l (later_of {f = one o} (later_of {f = one x} h)) = refl
  member_same l (later_of {f = one o} (later_of {f = missing} h)) = refl
  member_same l (later_of {f = one o} (later_of {f = many ts} h)) = refl
  member_same l (later_of {f = one o} (later_of {f = statements ts} h)) = refl
  member_same l (later_of {f = missing} h) = refl
  member_same l (later_of {f = many ts} h) = refl
  member_same l (later_of {f = statements ts} h) = refl

  callee_of : {a b : Tree} → Redeclared a b → calls_it b ≡ calls_it a
  callee_of (redeclared m fs gs) = refl

  callee_same : {a b : Tree} → Changed A a b → calls_it b ≡ calls_it a
  callee_same (here {a = a} {b = b} h) = callee_of (same a b h)
  callee_same (below {k = MemberExpression} {l = l} h) = member_same l h
  callee_same (below {k = Identifier} h) = refl
  callee_same (below h) = refl

  a_name_of : {a b : Tree} → Redeclared a b → is_a_name b ≡ is_a_name a
  a_name_of (redeclared m fs gs) = refl

  a_name_same : {a b : Tree} → Changed A a b → is_a_name b ≡ is_a_name a
  a_name_same (here {a = a} {b = b} h) = a_name_of (same a b h)
  a_name_same (below {k = Identifier} h) = refl
  a_name_same (below h) = refl

  -- with these arguments
  abbrev called : Label → Tree → Trees → Fields → Bool
  called l f ts fs = excludes_no_name CallExpression l (one f then (many ts then fs))

  callee_changes : (l : Label) {f g : Tree} (fs : Fields) → Changed A f g → excludes_no_name CallExpression l (one g then fs) ≡ excludes_no_name CallExpression l (one f then fs)
  callee_changes l (many (e before (k before empty)) then fs) h = ap (λ b. not (b && is_a_name k)) (callee_same h)
  callee_changes l (many (e before (k before (t before ts))) then fs) h = refl
  callee_changes l (many (e before empty) then fs) h = refl
  callee_changes l (many empty then fs) h = refl
  callee_changes l (missing then fs) h = refl
  callee_changes l (one t then fs) h = refl
  callee_changes l (statements ts then fs) h = refl
  callee_changes l done h = refl

  arguments_change : (l : Label) (f : Tree) (fs : Fields) {ts us : Trees} → ChangedAmong A ts us → called l f us fs ≡ called l f ts fs
  arguments_change l f fs (head_of {ts = empty} h) = refl
  arguments_change l f fs (head_of {ts = k before empty} h) = refl
  arguments_change l f fs (head_of {ts = k before (t before ts)} h) = refl
  arguments_change l f fs (tail_of (head_of {ts = empty} h)) = ap (λ b. not (calls_it f && b)) (a_name_same h)
  arguments_change l f fs (tail_of (head_of {ts = t before ts} h)) = refl
  arguments_change l f fs (tail_of (tail_of (head_of h))) = refl
  arguments_change l f fs (tail_of (tail_of (tail_of h))) = refl

  behind_change : (l : Label) (f : Tree) (g : Field) (fs gs : Fields) → excludes_no_name CallExpression l (one f then (g then gs)) ≡ excludes_no_name CallExpression l (one f then (g then fs))
  behind_change l f (many (e before (k before empty))) fs gs = refl
  behind_change l f (many (e before (k before (t before ts)))) fs gs = refl
  behind_change l f (many (e before empty)) fs gs = refl
  behind_change l f (many empty) fs gs = refl
  behind_change l f missing fs gs = refl
  behind_change l f (one t) fs gs = refl
  behind_change l f (statements ts) fs gs = refl

  call_same : (l : Label) {fs gs : Fields} → ChangedIn A fs gs → excludes_no_name CallExpression l gs ≡ excludes_no_name CallExpression l fs
  call_same l (first_of {fs = fs} (one_of h)) = callee_changes l fs h
  call_same l (first_of (many_of h)) = refl
  call_same l (first_of (statements_of h)) = refl
  call_same l (later_of {f = one f} (first_of {fs = fs} (many_of h))) = arguments_change l f fs h
  call_same l (later_of {f = one f} (first_of (one_of h))) = refl
  call_same l (later_of {f = one f} (first_of (statements_of h))) = refl
  call_same l (later_of {f = one f} (later_of {f = g} {fs = fs} {gs = gs} h)) = behind_change l f g fs gs
  call_same l (later_of {f = missing} h) = refl
  call_same l (later_of {f = many ts} h) = refl
  call_same l (later_of {f = statements ts} h) = refl

  pub call_still : (k : AstType) (l : Label) (fs gs : Fields) → ChangedIn A fs gs → excludes_no_name k l fs ≡ true → excludes_no_name k l gs ≡ true
  call_still CallExpression l fs gs h t = call_same l h ∙ t
  call_still _ l fs gs h t = refl
