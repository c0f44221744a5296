-- A program that doesn't name the object of all helpers has no member of it, also where that word is a key.
use Rattle.std.proofs.Common.{◌≡◌, ℕ, zero, suc, refl, sym, ap, ◌∙◌}
use Rattle.std.proofs.lemmas.Bool.{and_from}
use Rattle.std.specs.Prelude.{Bool, true, false, not, bytes_eq, codes}
use Rattle.es_tree.specs.Names.{first_text}
use Rattle.es_tree.specs.Tree.{Tree, node, Label, Fields, done, ◌then◌, Field, missing, one, many, statements, Trees, empty, ◌before◌}
use Rattle.es_tree.specs.Walks.{all_nodes, all_in_field, all_in_fields, all_in_trees}
use Rattle.es_tree.specs.Words.{Text}
use Rattle.es_tree.specs.declared.ast_type.AstType.{AstType}
use Rattle.es_tree.specs.declared.ast_type.AstType.TheVariants.{ChainExpression, Identifier, MemberExpression, ParenthesizedExpression, VariableDeclarator}
use Rattle.es_semantic.specs.RolesOf.{reads, role_at}
use Rattle.es_semantic.specs.declared.place.Role.{Role}
use Rattle.es_resolution.specs.Named.{Named, NamedAll, NamedBy, NamedIn}
use Rattle.es_resolution.proofs.Basics.{bytes_eq-equal}
use Rattle.es_statement_runs.specs.HelperMembers.{is_helpers_object, no_helper_member}

module _ (free : ℕ) (used : Text → Bool) (unused : used (codes "babelHelpers") ≡ false) where
  other : (x : Text) → used x ≡ true → bytes_eq x (codes "babelHelpers") ≡ false
  other x h = at (bytes_eq x (codes "babelHelpers")) refl
    where
      at : (b : Bool) → bytes_eq x (codes "babelHelpers") ≡ b → b ≡ false
      at true e = let no : true ≡ false = sym h ∙ ap used (bytes_eq-equal x (codes "babelHelpers") e) ∙ unused in absurd (cc no)
      at false e = refl

  -- what is read is another object
  object : (o : Tree) → Named used free reads o → is_helpers_object o ≡ false
  object (node Identifier l fs) h = other (first_text l.texts) h.0.0
  object (node ParenthesizedExpression l (one t then fs)) h = object t h.1.0
  object (node ParenthesizedExpression l done) h = refl
  object (node ParenthesizedExpression l (missing then fs)) h = refl
  object (node ParenthesizedExpression l (many ts then fs)) h = refl
  object (node ParenthesizedExpression l (statements ts then fs)) h = refl
  object (node ChainExpression l (one t then fs)) h = object t h.1.0
  object (node ChainExpression l done) h = refl
  object (node ChainExpression l (missing then fs)) h = refl
  object (node ChainExpression l (many ts then fs)) h = refl
  object (node ChainExpression l (statements ts then fs)) h = refl
  object (node VariableDeclarator l (one t then fs)) h = object t h.1.0
  object (node VariableDeclarator l done) h = refl
  object (node VariableDeclarator l (missing then fs)) h = refl
  object (node VariableDeclarator l (many ts then fs)) h = refl
  object (node VariableDeclarator l (statements ts then fs)) h = refl
  object (node _ l fs) h = refl

  own-member : (r : Role) (k : AstType) (l : Label) (fs : Fields) → NamedIn used free (role_at r k l fs) fs → no_helper_member k l fs ≡ true
  own-member r MemberExpression l (one o then fs) h = ap not (object o h.0)
  own-member r MemberExpression l done h = refl
  own-member r MemberExpression l (missing then fs) h = refl
  own-member r MemberExpression l (many ts then fs) h = refl
  own-member r MemberExpression l (statements ts then fs) h = refl
  own-member r _ l fs h = refl

  mutual
    pub named-members : (r : Role) (t : Tree) → Named used free r t → all_nodes no_helper_member t ≡ true
    named-members r (node k l fs) h = and_from (no_helper_member k l fs) (all_in_fields no_helper_member fs) (own-member r k l fs h.1) (named-in (role_at r k l fs) fs h.1)

    named-in : (roles : ℕ → Role) (fs : Fields) → NamedIn used free roles fs → all_in_fields no_helper_member fs ≡ true
    named-in roles done h = refl
    named-in roles (f then fs) h = and_from (all_in_field no_helper_member f) (all_in_fields no_helper_member fs) (named-by (roles zero) f h.0) (named-in (λ i. roles (suc i)) fs h.1)

    named-by : (r : Role) (f : Field) → NamedBy used free r f → all_in_field no_helper_member f ≡ true
    named-by r missing h = refl
    named-by r (one t) h = named-members r t h
    named-by r (many ts) h = named-all r ts h
    named-by r (statements ts) h = named-all r ts h

    named-all : (r : Role) (ts : Trees) → NamedAll used free r ts → all_in_trees no_helper_member ts ≡ true
    named-all r empty h = refl
    named-all r (t before ts) h = and_from (all_nodes no_helper_member t) (all_in_trees no_helper_member ts) (named-members r t h.0) (named-all r ts h.1)
