-- A program that doesn't name the object of all helpers calls no helper of it that excludes keys, nor does a program that is the same but for the marks of names.
use Rattle.std.proofs.Common.{◌≡◌, ℕ, zero, suc, refl, sym, ap, ◌∙◌}
use Rattle.std.proofs.lemmas.Bool.{and_from}
use Rattle.std.specs.Prelude.{Bool, true, false, not, ◌&&◌, bytes_eq, codes}
use Rattle.es_tree.specs.Bare.{bare, bare_field, bare_fields, bare_label, bare_trees}
use Rattle.es_tree.specs.Names.{first_text}
use Rattle.es_tree.specs.Scopes.{own_text}
use Rattle.es_tree.specs.Tree.{Tree, node, Label, Fields, done, ◌then◌, Field, missing, one, many, statements, Trees, empty, ◌before◌}
use Rattle.es_tree.specs.Walks.{all_nodes, all_in_field, all_in_fields, all_in_trees}
use Rattle.es_tree.specs.Words.{Text}
use Rattle.es_tree.specs.declared.ast_type.AstType.{AstType}
use Rattle.es_tree.specs.declared.ast_type.AstType.TheVariants.{CallExpression, Identifier, MemberExpression}
use Rattle.es_semantic.specs.RolesOf.{reads, role_at}
use Rattle.es_semantic.specs.declared.place.Role.{Role}
use Rattle.es_resolution.specs.Named.{Named, NamedAll, NamedBy, NamedIn}
use Rattle.es_resolution.proofs.Basics.{bytes_eq-equal}
use Rattle.es_statement_runs.specs.Helpers.{is_this_name}
use Rattle.es_statement_runs.specs.Names.{is_word}
use Rattle.es_statement_steps.proofs.KeylessPrograms.{IsKeyless, excludes_none, is_excluding, without_}

-- WHERE NO NAME IS THAT OF THE OBJECT

module _ (free : ℕ) (used : Text → Bool) (unused : used (codes "babelHelpers") ≡ false) where
  other : (x : Text) → used x ≡ true → bytes_eq x (codes "babelHelpers") ≡ false
  other x h = at (bytes_eq x (codes "babelHelpers")) refl
    where
      at : (b : Bool) → bytes_eq x (codes "babelHelpers") ≡ b → b ≡ false
      at true e = let no : true ≡ false = sym h ∙ ap used (bytes_eq-equal x (codes "babelHelpers") e) ∙ unused in absurd (cc no)
      at false e = refl

  object : (o : Tree) → Named used free reads o → is_this_name (codes "babelHelpers") o ≡ false
  object (node Identifier l fs) h = other (first_text l.texts) h.0.0
  object (node _ l fs) h = refl

  callee : (r : Role) (f : Tree) → Named used free r f → is_excluding f ≡ false
  callee r (node MemberExpression l (one o then (one x then fs))) h = ap (λ b. b && is_word without_ (own_text x)) (object o h.1.0)
  callee r (node _ l fs) h = refl

  own-keyless : (r : Role) (k : AstType) (l : Label) (fs : Fields) → NamedIn used free (role_at r k l fs) fs → excludes_none k l fs ≡ true
  own-keyless r CallExpression l (one f then fs) h = ap not (callee (role_at r CallExpression l (one f then fs) 0) f h.0)
  own-keyless r _ l fs h = refl

  mutual
    pub named-keyless : (r : Role) (t : Tree) → Named used free r t → IsKeyless t
    named-keyless r (node k l fs) h = and_from (excludes_none k l fs) (all_in_fields excludes_none fs) (own-keyless r k l fs h.1) (named-in (role_at r k l fs) fs h.1)

    named-in : (roles : ℕ → Role) (fs : Fields) → NamedIn used free roles fs → all_in_fields excludes_none fs ≡ true
    named-in roles done h = refl
    named-in roles (f then fs) h = and_from (all_in_field excludes_none f) (all_in_fields excludes_none fs) (named-by (roles zero) f h.0) (named-in (λ i. roles (suc i)) fs h.1)

    named-by : (r : Role) (f : Field) → NamedBy used free r f → all_in_field excludes_none f ≡ true
    named-by r missing h = refl
    named-by r (one t) h = named-keyless r t h
    named-by r (many ts) h = named-all r ts h
    named-by r (statements ts) h = named-all r ts h

    named-all : (r : Role) (ts : Trees) → NamedAll used free r ts → all_in_trees excludes_none ts ≡ true
    named-all r empty h = refl
    named-all r (t before ts) h = and_from (all_nodes excludes_none t) (all_in_trees excludes_none ts) (named-keyless r t h.0) (named-all r ts h.1)

-- WHERE TREES ARE THE SAME but for the marks of names

bare-name : (o : Tree) → is_this_name (codes "babelHelpers") (bare o) ≡ is_this_name (codes "babelHelpers") o
bare-name (node Identifier l fs) = refl
bare-name (node _ l fs) = refl

bare-word : (x : Tree) → own_text (bare x) ≡ own_text x
bare-word (node k l fs) = refl

bare-callee : (f : Tree) → is_excluding (bare f) ≡ is_excluding f
bare-callee (node MemberExpression l (one o then (one x then fs))) = λ i. bare-name o i && is_word without_ (bare-word x i)
bare-callee (node MemberExpression l done) = refl
bare-callee (node MemberExpression l (missing then fs)) = refl
bare-callee (node MemberExpression l (many ts then fs)) = refl
bare-callee (node MemberExpression l (statements ts then fs)) = refl
bare-callee (node MemberExpression l (one o then done)) = refl
bare-callee (node MemberExpression l (one o then (missing then fs))) = refl
bare-callee (node MemberExpression l (one o then (many ts then fs))) = refl
bare-callee (node MemberExpression l (one o then (statements ts then fs))) = refl
bare-callee (node _ l fs) = refl

bare-excludes : (k : AstType) (l : Label) (fs : Fields) → excludes_none k (bare_label l) (bare_fields fs) ≡ excludes_none k l fs
bare-excludes CallExpression l (one f then fs) = ap not (bare-callee f)
bare-excludes CallExpression l done = refl
bare-excludes CallExpression l (missing then fs) = refl
bare-excludes CallExpression l (many ts then fs) = refl
bare-excludes CallExpression l (statements ts then fs) = refl
bare-excludes _ l fs = refl

mutual
  bare-keyless : (t : Tree) → all_nodes excludes_none (bare t) ≡ all_nodes excludes_none t
  bare-keyless (node k l fs) = λ i. bare-excludes k l fs i && bare-in fs i

  bare-in : (fs : Fields) → all_in_fields excludes_none (bare_fields fs) ≡ all_in_fields excludes_none fs
  bare-in done = refl
  bare-in (f then fs) = λ i. bare-by f i && bare-in fs i

  bare-by : (f : Field) → all_in_field excludes_none (bare_field f) ≡ all_in_field excludes_none f
  bare-by missing = refl
  bare-by (one t) = bare-keyless t
  bare-by (many ts) = bare-all ts
  bare-by (statements ts) = bare-all ts

  bare-all : (ts : Trees) → all_in_trees excludes_none (bare_trees ts) ≡ all_in_trees excludes_none ts
  bare-all empty = refl
  bare-all (t before ts) = λ i. bare-keyless t i && bare-all ts i

pub same-keyless : (t p : Tree) → bare t ≡ bare p → IsKeyless p → IsKeyless t
same-keyless t p e h = sym (bare-keyless t) ∙ ap (λ x. all_nodes excludes_none x) e ∙ bare-keyless p ∙ h
