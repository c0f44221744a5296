-- Lists of texts: their shape, and that they declare nothing and open no scope.
use Rattle.std.proofs.Common.{arith, ◌≡◌, ℕ, zero, suc, refl, List, [], ◌++◌}
use Rattle.std.specs.Prelude.{Bool, true, false, if◌then◌else◌}
use Rattle.es_tree.specs.Tree.{Tree, node, Label, Fields, done, ◌then◌, one}
use Rattle.es_tree.specs.Words.{Text}
use Rattle.es_tree.specs.declared.ast_type.AstType.TheVariants.{ArrayExpression, StringLiteral}
use Rattle.es_semantic.specs.RolesOf.{reads, role_at}
use Rattle.es_semantic.specs.declared.place.Role.{Role}
use Rattle.es_resolution.specs.Declarations.{Bound, declared, declared_in, reaches_out}
use Rattle.es_resolution.specs.Resolved.{parameters_in}
use Rattle.es_resolution.specs.Single.{scopes_in, scopes_with}
use Rattle.es_helper_calls.specs.TextLists.{are_texts, is_text_list}

pub data Texts : Fields → Type 0 where
  no_text : Texts done
  one_text : {fs : Fields} (k : Label) → Texts fs → Texts (one (node StringLiteral k done) then fs)

pub data TextList : Tree → Type 0 where
  text_list : (l : Label) (fs : Fields) → Texts fs → TextList (node ArrayExpression l fs)

texts-are : (fs : Fields) → are_texts fs ≡ true → Texts fs
texts-are done e = no_text
texts-are (one (node StringLiteral k done) then fs) e = one_text k (texts-are fs e)
texts-are fs e = absurd (cc e)

pub list-is : (t : Tree) → is_text_list t ≡ true → TextList t
list-is (node ArrayExpression l (f then fs)) e = text_list l (f then fs) (texts-are (f then fs) e)
list-is t e = absurd (cc e)

-- NAMES

none-if : (b : Bool) (bs : List Bound) → bs ≡ [] → (if b then [] else []) ++ bs ≡ []
none-if true bs e = e
none-if false bs e = e

texts-declare : (v : Bool) (counts : ℕ → Bool) (roles : ℕ → Role) (fs : Fields) → Texts fs → declared_in v counts roles fs ≡ []
texts-declare v counts roles ts no_text = refl
texts-declare v counts roles ts (one_text {fs = fs} k h) = none-if (counts zero) (declared_in v (λ i. counts (suc i)) (λ i. roles (suc i)) fs) (texts-declare v (λ i. counts (suc i)) (λ i. roles (suc i)) fs h)

pub list-declares : (v : Bool) (t : Tree) → TextList t → declared v reads t ≡ []
list-declares v t (text_list l fs h) = texts-declare v (reaches_out v ArrayExpression) (role_at reads ArrayExpression l fs) fs h

texts-scopes : (s : ℕ) (ps : Text → Bool) (roles : ℕ → Role) (fs : Fields) → Texts fs → scopes_in s ps roles fs ≡ 0
texts-scopes s ps roles ts no_text = refl
texts-scopes s ps roles ts (one_text {fs = fs} k h) = let e = texts-scopes s ps (λ i. roles (suc i)) fs h in omega arith

pub list-scopes : (s : ℕ) (ps : Text → Bool) (t : Tree) → TextList t → scopes_with s ps reads t ≡ 0
list-scopes s ps t (text_list l fs h) = let e = texts-scopes s (parameters_in ArrayExpression l (role_at reads ArrayExpression l fs) fs) (role_at reads ArrayExpression l fs) fs h in omega arith
