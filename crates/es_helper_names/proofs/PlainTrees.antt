-- What gives way to a name declares nothing and opens no scope: a helper, of which form asks that its names have no fields, and a list of texts.
use Rattle.std.proofs.Common.{◌≡◌, ℕ, refl, [], ◌++◌}
use Rattle.std.specs.Prelude.{Bool, true, false, Some, if◌then◌else◌}
use Rattle.es_tree.specs.Names.{is_name_place}
use Rattle.es_tree.specs.Tree.{Tree, node, Label, Fields, done, ◌then◌, one}
use Rattle.es_tree.specs.Words.{Text}
use Rattle.es_tree.specs.declared.ast_type.AstType.{AstType}
use Rattle.es_tree.specs.declared.ast_type.AstType.TheVariants.{Identifier, MemberExpression}
use Rattle.es_tree.specs.declared.helper.Helper.{Helper}
use Rattle.es_tree.specs.declared.table.Sort.{Sort}
use Rattle.es_tree.proofs.NodeForm.{NodeForm}
use Rattle.es_semantic.specs.RolesOf.{reads}
use Rattle.es_semantic.specs.declared.place.Role.TheVariants.{Nothing}
use Rattle.es_resolution.specs.Declarations.{Bound, declared}
use Rattle.es_resolution.specs.Single.{scopes_with}
use Rattle.es_resolution.proofs.AllForms.{All}
use Rattle.es_helper_calls.specs.HelperCalls.{helper_of}
use Rattle.es_helper_calls.specs.TextLists.{is_text_list}
use Rattle.es_helper_calls.proofs.Callees.{IsCallee, callee-shape}
use Rattle.es_helper_calls.proofs.Callees.IsCallee.{a_member}
use Rattle.es_helper_calls.proofs.TextLists.{list-declares, list-is, list-scopes}

pub record IsPlain (f : Tree) : Type 0 where
  pub declares : (v : Bool) → declared v reads f ≡ []
  pub scopes : (s : ℕ) (ps : Text → Bool) → scopes_with s ps reads f ≡ 0

-- such a tree, and a name of this kind
abbrev pub Way : (Bound → Type 0) → Tree → Bound → Type 0
Way T f b = IsPlain f × T b

-- A HELPER: an identifier that has form has no fields

abbrev pub HasNoFields : AstType → Label → Fields → Type 0
HasNoFields Identifier l (f then fs) = ⊥
HasNoFields k l fs = Unit {0}

pub bare-identifiers : (s : Sort) (k : AstType) (l : Label) (fs : Fields) → NodeForm s k l fs → HasNoFields k l fs
bare-identifiers s Identifier l (f then fs) h = absurd (let no : false ≡ true = h.children in cc)
bare-identifiers s k l fs h = tt

property-declares : (v b : Bool) (e : Label) → declared v (if b then reads else Nothing) (node Identifier e done) ≡ []
property-declares v true e = refl
property-declares v false e = refl

member-declares : (m d e : Label) (v : Bool) → declared v reads (node MemberExpression m (one (node Identifier d done) then (one (node Identifier e done) then done))) ≡ []
member-declares m d e true = λ i. property-declares true (is_name_place MemberExpression m 1) e i ++ []
member-declares m d e false = λ i. property-declares false (is_name_place MemberExpression m 1) e i ++ []

callee-plain : (f : Tree) → IsCallee f → All HasNoFields f → IsPlain f
callee-plain _ (a_member {l = l} {j = j} {m = m} {gs = done} {fs = done} mark) q = record { declares = member-declares l j m; scopes = λ s ps. refl }
callee-plain _ (a_member {gs = done} {fs = f then fs} mark) q = absurd q.1.1.0.0
callee-plain _ (a_member {gs = g then gs} mark) q = absurd q.1.0.0

pub helper-plain : (f : Tree) (h : Helper) → helper_of f ≡ Some h → All HasNoFields f → IsPlain f
helper-plain f h it = callee-plain f (callee-shape f h it)

-- A LIST OF TEXTS

pub list-plain : (ks : Tree) → is_text_list ks ≡ true → IsPlain ks
list-plain ks e = let texts = list-is ks e in record { declares = λ v. list-declares v ks texts; scopes = λ s ps. list-scopes s ps ks texts }
