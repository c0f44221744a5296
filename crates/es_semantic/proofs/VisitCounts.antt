-- How many scopes the visits of a tree have.
use Rattle.std.proofs.Common.{◌≡◌, ℕ, zero, suc, ◌+◌, Bool, true, false, if◌then◌else◌, List, [], ◌∷◌, ◌++◌, length, refl, sym, ap, ◌∙◌, append_assoc, arith, length-append}
use Rattle.es_tree.specs.Tree.{Tree, node, Label, Fields, done, ◌then◌, Field, missing, one, many, statements, Trees, empty, ◌before◌}
use Rattle.es_tree.specs.declared.ast_type.AstType.{AstType}
use Rattle.es_tree.specs.declared.ast_type.AstType.TheVariants.{FunctionExpression}
use Rattle.es_semantic.specs.Places.{Place, Visit, has_name_scope, makes_scope, own_scope_count, place_in, scope_count_in, scope_count_in_field, scope_count_in_fields, scope_count_in_trees, visit, visits, visits_in_field, visits_in_fields, visits_in_trees}
use Rattle.es_semantic.specs.ScopesOf.{ScopeRow, scopes_among, scopes_made}

-- a node that makes the scope of a name makes one by its kind too
pub named_makes : (k : AstType) (fs : Fields) → has_name_scope k fs ≡ true → makes_scope k ≡ true
named_makes FunctionExpression fs e = refl
named_makes _ fs e = absurd (cc)

rows_count : (named makes : Bool) (r q : ScopeRow) → (named ≡ true → makes ≡ true) → length ((if named then r ∷ [] else []) ++ (if makes then q ∷ [] else [])) ≡ (if named then 2 else if makes then 1 else 0)
rows_count true true r q h = refl
rows_count true false r q h = absurd (let no : false ≡ true = h refl in cc)
rows_count false true r q h = refl
rows_count false false r q h = refl

pub made_count : (p : Place) (n : ℕ) (k : AstType) (l : Label) (fs : Fields) → length (scopes_made (visit p n k l fs)) ≡ own_scope_count k fs
made_count p n k l fs = rows_count (has_name_scope k fs) (makes_scope k) _ _ (named_makes k fs)

pub scopes_joined : (vs ws : List Visit) → scopes_among (vs ++ ws) ≡ scopes_among vs ++ scopes_among ws
scopes_joined [] ws = refl
scopes_joined (v ∷ vs) ws = ap (λ rs. scopes_made v ++ rs) (scopes_joined vs ws) ∙ sym (append_assoc (scopes_made v) (scopes_among vs) (scopes_among ws))

both_counted : (vs ws : List Visit) (n m : ℕ) → length (scopes_among vs) ≡ n → length (scopes_among ws) ≡ m → length (scopes_among (vs ++ ws)) ≡ n + m
both_counted vs ws n m e f = ap length (scopes_joined vs ws) ∙ omega (arith, length-append (scopes_among vs) (scopes_among ws), e, f)

mutual
  pub scopes_count : (p : Place) (n : ℕ) (t : Tree) → length (scopes_among (visits p n t)) ≡ scope_count_in t
  scopes_count p n (node k l fs) =
      let v = visit p n k l fs in
      omega (arith, length-append (scopes_made v) (scopes_among (visits_in_fields (place_in p n k l fs) (n + own_scope_count k fs) fs)), made_count p n k l fs, fields_count (place_in p n k l fs) (n + own_scope_count k fs) fs)

  pub fields_count : (ps : ℕ → Place) (n : ℕ) (fs : Fields) → length (scopes_among (visits_in_fields ps n fs)) ≡ scope_count_in_fields fs
  fields_count ps n done = refl
  fields_count ps n (f then fs) =
      both_counted (visits_in_field (ps zero) n f) (visits_in_fields (λ i. ps (suc i)) (n + scope_count_in_field f) fs) _ _ (field_count (ps zero) n f) (fields_count (λ i. ps (suc i)) (n + scope_count_in_field f) fs)

  pub field_count : (p : Place) (n : ℕ) (f : Field) → length (scopes_among (visits_in_field p n f)) ≡ scope_count_in_field f
  field_count p n missing = refl
  field_count p n (one t) = scopes_count p n t
  field_count p n (many ts) = trees_count p n ts
  field_count p n (statements ts) = trees_count p n ts

  pub trees_count : (p : Place) (n : ℕ) (ts : Trees) → length (scopes_among (visits_in_trees p n ts)) ≡ scope_count_in_trees ts
  trees_count p n empty = refl
  trees_count p n (t before ts) = both_counted (visits p n t) (visits_in_trees p (n + scope_count_in t) ts) _ _ (scopes_count p n t) (trees_count p (n + scope_count_in t) ts)
