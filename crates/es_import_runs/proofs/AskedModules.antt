-- A module that asks for none of the helpers' modules has no name that stands for a helper that it imports; and ids and marks say nothing of such names.
use Rattle.std.proofs.Common.{◌≡◌, refl, List, [], ◌∷◌, ◌++◌, sym, ap, ◌∙◌}
use Rattle.std.proofs.lemmas.Bool.{and_from, and_parts}
use Rattle.std.specs.List.{list_all}
use Rattle.std.specs.Prelude.{◌&&◌, Bool, true, false, not, Option, Some, None, is_some}
use Rattle.es_tree.specs.Bare.{bare, bare_trees, bare_fields, bare_label}
use Rattle.es_tree.specs.HasForm.{has_form, trees_form}
use Rattle.es_tree.specs.Names.{first_text}
use Rattle.es_tree.specs.Scopes.{own_text}
use Rattle.es_tree.specs.Tree.{Tree, node, Label, Fields, done, ◌then◌, missing, one, many, statements, Trees, empty, ◌before◌}
use Rattle.es_tree.specs.Walks.{all_in_fields, all_nodes}
use Rattle.es_tree.specs.Words.{Text}
use Rattle.es_tree.specs.declared.ast_type.AstType.{AstType}
use Rattle.es_tree.specs.declared.ast_type.AstType.TheVariants.{Identifier, ImportDeclaration, ImportDefaultSpecifier, StringLiteral, ChainExpression, MemberExpression, ParenthesizedExpression, VariableDeclarator}
use Rattle.es_tree.specs.declared.table.Sort.{Sort}
use Rattle.es_tree.specs.declared.table.Sort.TheVariants.{ImportItem as s-ImportItem, Program as s-Program, StringLiteral as s-StringLiteral}
use Rattle.es_tree.proofs.NodeForm.{NodeForm, node_form}
use Rattle.es_resolution.proofs.AllForms.{All, AllAmong, all-tree}
use Rattle.es_module_names.specs.Modules.{request, texts_among}
use Rattle.es_runs.specs.Runs.{program}
use Rattle.es_statement_runs.specs.Helpers.{helper_in, imported_helper, imported_helpers, named_helper}
use Rattle.es_statement_runs.specs.HelperMembers.{first_is_helpers, is_helpers_object, no_helper_member}
use Rattle.es_statement_steps.proofs.BareTests.{fields-bare}
use Rattle.es_import_runs.specs.Laws.{asks_no_helper}

-- AN IMPORT has a text for its source

abbrev IsTexts : Tree → Type 0
IsTexts (node StringLiteral l fs) = Unit {0}
IsTexts t = ⊥

abbrev Sourced : AstType → Label → Fields → Type 0
Sourced ImportDeclaration l (many ts then (one s then fs)) = IsTexts s
Sourced k l fs = Unit {0}

text_form : (t : Tree) → has_form s-StringLiteral t ≡ true → IsTexts t
text_form (node StringLiteral l fs) h = tt
text_form (node k l fs) h = absurd (let no : false ≡ true = (node_form s-StringLiteral k l fs h).sort in cc no)

sourced_form : (s : Sort) (k : AstType) (l : Label) (fs : Fields) → NodeForm s k l fs → Sourced k l fs
sourced_form s ImportDeclaration l (many ts then (one t then fs)) h = text_form t (and_parts (has_form s-StringLiteral t) _ (and_parts (trees_form s-ImportItem s-ImportItem ts) _ h.children).1).0
sourced_form s _ l fs h = tt

-- WHERE IT ASKS FOR NONE

module _ (m : Text) where
  abbrev no_helper : Text → Bool
  no_helper t = not (is_some (helper_in m t))

  all_left : (xs ys : List Text) → list_all no_helper (xs ++ ys) ≡ true → (list_all no_helper xs ≡ true) × (list_all no_helper ys ≡ true)
  all_left [] ys h = (refl, h)
  all_left (x ∷ xs) ys h = let d = and_parts (no_helper x) (list_all no_helper (xs ++ ys)) h in let e = all_left xs ys d.1 in (and_from (no_helper x) (list_all no_helper xs) d.0 e.0, e.1)

  named_none : (x : Text) (o : Option Text) → (not (is_some o) && true) ≡ true → named_helper x o ≡ []
  named_none x None h = refl
  named_none x (Some t) h = absurd (cc h)

  none_here : (t : Tree) → All Sourced t → list_all no_helper (request t) ≡ true → imported_helper m t ≡ []
  none_here (node ImportDeclaration l (many (node ImportDefaultSpecifier k (one x then done) before empty) then (one (node StringLiteral i gs) then fs))) s h = named_none (own_text x) (helper_in m (first_text i.texts)) h
  none_here (node ImportDeclaration l (many (node ImportDefaultSpecifier k (one x then done) before empty) then (one (node j i gs) then fs))) s h = absurd s.0
  none_here _ s h = refl

  none_among : (ts : Trees) → AllAmong Sourced ts → list_all no_helper (texts_among request ts) ≡ true → imported_helpers m ts ≡ []
  none_among empty s h = refl
  none_among (t before ts) s h = let d = all_left (request t) (texts_among request ts) h in λ i. none_here t s.0 d.0 i ++ none_among ts s.1 d.1 i

  pub none_imported : (l : Label) (ds body : Trees) → has_form s-Program (program l ds body) ≡ true → asks_no_helper m (program l ds body) ≡ true → imported_helpers m body ≡ []
  none_imported l ds body form asks = none_among body (all-tree Sourced sourced_form s-Program (program l ds body) form).1.1.0 asks

  -- IDS AND MARKS

  text_bare : (t : Tree) → own_text (bare t) ≡ own_text t
  text_bare (node k l fs) = refl

  import_bare : (t : Tree) → imported_helper m (bare t) ≡ imported_helper m t
  import_bare (node ImportDeclaration l (many (node ImportDefaultSpecifier k (one x then done) before empty) then (one s then fs))) = λ i. named_helper (text_bare x i) (helper_in m (text_bare s i))
  import_bare _ = refl

  pub imports_bare : (ts : Trees) → imported_helpers m (bare_trees ts) ≡ imported_helpers m ts
  imports_bare empty = refl
  imports_bare (t before ts) = λ i. import_bare t i ++ imports_bare ts i

-- nor of members of `babelHelpers`
mutual
  object_bare : (t : Tree) → is_helpers_object (bare t) ≡ is_helpers_object t
  object_bare (node Identifier l fs) = refl
  object_bare (node ParenthesizedExpression l fs) = first_bare fs
  object_bare (node ChainExpression l fs) = first_bare fs
  object_bare (node VariableDeclarator l fs) = first_bare fs
  object_bare (node _ l fs) = refl

  first_bare : (fs : Fields) → first_is_helpers (bare_fields fs) ≡ first_is_helpers fs
  first_bare done = refl
  first_bare (missing then fs) = refl
  first_bare (one t then fs) = object_bare t
  first_bare (many ts then fs) = refl
  first_bare (statements ts then fs) = refl

member_bare : (k : AstType) (l : Label) (fs : Fields) → no_helper_member k (bare_label l) (bare_fields fs) ≡ no_helper_member k l fs
member_bare MemberExpression l fs = ap not (first_bare fs)
member_bare _ l fs = refl

pub same_members : (t u : Tree) → bare t ≡ bare u → all_nodes no_helper_member t ≡ true → all_nodes no_helper_member u ≡ true
same_members t u e h =
    let both : all_in_fields no_helper_member (one u then done) ≡ all_in_fields no_helper_member (one t then done) =
    sym (fields-bare no_helper_member member_bare (one u then done)) ∙ ap (λ (z : Tree). all_nodes no_helper_member z && true) (sym e) ∙ fields-bare no_helper_member member_bare (one t then done) in
    (and_parts (all_nodes no_helper_member u) true (both ∙ and_from (all_nodes no_helper_member t) true h refl)).0
