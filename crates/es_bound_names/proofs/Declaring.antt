-- The symbols of a program have the names that it declares.
use Rattle.std.proofs.Common.{◌≡◌, ◌∙◌, ℕ, zero, suc, ◌+◌, List, [], ◌∷◌, ◌++◌, ap, refl, sym, subst}
use Rattle.std.proofs.lemmas.Slice.Eq.{bytes_eq-Decides}
use Rattle.std.proofs.lemmas.List.Folds.{list_any-append}
use Rattle.std.specs.List.{list_any}
use Rattle.std.specs.Prelude.{◌==◌, ◌&&◌, ◌||◌, Bool, true, false, bytes_eq, if◌then◌else◌}
use Rattle.es_tree.specs.Children.{child_at}
use Rattle.es_tree.specs.Names.{first_text, is_name_place, third_stands}
use Rattle.es_tree.specs.Scopes.{own_text}
use Rattle.es_tree.specs.Tree.{Tree, node, Label, Fields, done, ◌then◌, Field, missing, one, many, statements, Trees, empty, ◌before◌}
use Rattle.es_tree.specs.Words.{Text}
use Rattle.es_tree.specs.declared.ast_type.AstType.{AstType}
use Rattle.es_tree.specs.declared.ast_type.AstType.TheVariants.{
  ArrayPattern,
  ArrayTarget,
  ArrowFunctionExpression,
  AssignmentExpression,
  AssignmentPattern,
  CatchClause,
  ClassDeclaration,
  ClassExpression,
  ExportDefaultDeclaration,
  ExportNamedDeclaration,
  ExportSpecifier,
  ForInStatement,
  ForOfStatement,
  FunctionBody,
  FunctionDeclaration,
  FunctionExpression,
  Identifier,
  ImportDefaultSpecifier,
  ImportNamespaceSpecifier,
  ImportSpecifier,
  MethodDefinition,
  ObjectPattern,
  ObjectTarget,
  ParenthesizedExpression,
  PatternProperty,
  Program,
  RestElement,
  StaticBlock,
  TargetProperty,
  TargetRest,
  TargetWithDefault,
  UpdateExpression,
  VariableDeclaration,
  VariableDeclarator,
}
use Rattle.es_semantic.specs.Places.{Place, Visit, outermost, own_scope, own_scope_count, place_in, scope_count_in, scope_count_in_field, visits, visits_in_field, visits_in_fields, visits_in_trees}
use Rattle.es_semantic.specs.RolesOf.{member_role, reads, role_at}
use Rattle.es_semantic.specs.SymbolsOf.{Declared, declared, is_bound, scope_for, with_class, with_identifier, with_node, with_symbol, with_visits}
use Rattle.es_semantic.specs.declared.place.Binding.{Binding}
use Rattle.es_semantic.specs.declared.place.Binding.TheVariants.{Class}
use Rattle.es_semantic.specs.declared.place.Role.{Role}
use Rattle.es_semantic.specs.declared.place.Role.TheVariants.{Binds, Constructor, Member, Nothing}
use Rattle.es_rest_shapes.specs.HelperNames.{binds_name}
use Rattle.es_bound_names.specs.BoundNames.{LawBound, declares, declares_among, declares_at, declares_by, declares_in, is_name_of, own_declares}

or-false : (a : Bool) → a ≡ (a || false)
or-false true = refl
or-false false = refl

or-grouped : (a b c : Bool) → ((a || b) || c) ≡ (a || (b || c))
or-grouped true b c = refl
or-grouped false b c = refl

-- ROLES

abbrev is_binding : Role → Bool
is_binding (Binds b) = true
is_binding r = false

read-none : (b : Bool) → is_binding (if b then reads else Nothing) ≡ false
read-none true = refl
read-none false = refl

other-none : (b : Bool) → is_binding (if b then Nothing else reads) ≡ false
other-none true = refl
other-none false = refl

member-none : (x : Text) (r : Role) → is_binding (member_role x r) ≡ false
member-none x (Member d) = at (bytes_eq x _)
  where
    at : (b : Bool) → is_binding (if b then Constructor d else Nothing) ≡ false
    at true = refl
    at false = refl
member-none x r = refl

role-declares : (r : Role) (k : AstType) (l : Label) (fs : Fields) (i : ℕ) → is_binding (role_at r k l fs i) ≡ declares_at (is_binding r) k i
role-declares r Program l fs (suc zero) = refl
role-declares r FunctionBody l fs (suc zero) = refl
role-declares r StaticBlock l fs zero = refl
role-declares r ExportNamedDeclaration l fs zero = refl
role-declares r ExportNamedDeclaration l fs (suc zero) = other-none (third_stands fs)
role-declares r ExportDefaultDeclaration l fs zero = refl
role-declares r VariableDeclaration l fs zero = refl
role-declares r VariableDeclarator l fs zero = refl
role-declares r FunctionDeclaration l fs zero = refl
role-declares r FunctionDeclaration l fs (suc zero) = refl
role-declares r FunctionExpression l fs zero = refl
role-declares r FunctionExpression l fs (suc zero) = refl
role-declares r ArrowFunctionExpression l fs zero = refl
role-declares r ClassDeclaration l fs zero = refl
role-declares r ClassDeclaration l fs (suc (suc zero)) = refl
role-declares r ClassExpression l fs zero = refl
role-declares r ClassExpression l fs (suc (suc zero)) = refl
role-declares r MethodDefinition l fs (suc zero) = member-none (first_text l.texts) r
role-declares r CatchClause l fs zero = refl
role-declares r ImportSpecifier l fs (suc zero) = refl
role-declares r ImportDefaultSpecifier l fs zero = refl
role-declares r ImportNamespaceSpecifier l fs zero = refl
role-declares r ExportSpecifier l fs zero = refl
role-declares r ForInStatement l fs zero = refl
role-declares r ForOfStatement l fs zero = refl
role-declares r AssignmentExpression l fs zero = refl
role-declares r UpdateExpression l fs zero = refl
role-declares r ParenthesizedExpression l fs zero = refl
role-declares r ObjectPattern l fs zero = refl
role-declares r PatternProperty l fs (suc zero) = refl
role-declares r ArrayPattern l fs i = refl
role-declares r AssignmentPattern l fs zero = refl
role-declares r RestElement l fs zero = refl
role-declares r ObjectTarget l fs zero = refl
role-declares r TargetProperty l fs (suc zero) = refl
role-declares r ArrayTarget l fs i = refl
role-declares r TargetWithDefault l fs zero = refl
role-declares r TargetRest l fs zero = refl
role-declares r k l fs i = read-none (is_name_place k l i)

module _ (x : Text) where
  -- SYMBOLS

  bound-named : (ds : List Declared) (s : ℕ) (y : Text) → is_bound ds s y ≡ true → binds_name y ds ≡ true
  bound-named [] s y h = absurd (cc h)
  bound-named (d ∷ ds) s y h = at (d.scope == s) (bytes_eq d.name y) (is_bound ds s y) (bound-named ds s y) h
    where
      at : (here named : Bool) (rest : Bool) → (rest ≡ true → binds_name y ds ≡ true) → ((here && named) || rest) ≡ true → (named || binds_name y ds) ≡ true
      at here true rest later e = refl
      at true false rest later e = later e
      at false false rest later e = later e

  -- one more symbol
  symbol-adds : (ds : List Declared) (s : ℕ) (y : Text) (b : Binding) → binds_name x (with_symbol ds s y b) ≡ (binds_name x ds || bytes_eq y x)
  symbol-adds ds s y b = at (is_bound ds s y) refl
    where
      known : (named : Bool) → bytes_eq y x ≡ named → is_bound ds s y ≡ true → binds_name x ds ≡ (binds_name x ds || named)
      known true e there = bound-named ds s x (subst (λ (z : Text). is_bound ds s z ≡ true) ((bytes_eq-Decides y x).0 e) there) ∙ ap (λ (c : Bool). c || true) (sym (bound-named ds s x (subst (λ (z : Text). is_bound ds s z ≡ true) ((bytes_eq-Decides y x).0 e) there)))
      known false e there = or-false (binds_name x ds)

      at : (v : Bool) → is_bound ds s y ≡ v → binds_name x (if v then ds else ds ++ declared s y b ∷ []) ≡ (binds_name x ds || bytes_eq y x)
      at true there = known (bytes_eq y x) refl there
      at false there = list_any-append (λ d. bytes_eq d.name x) ds (declared s y b ∷ []) ∙ ap (λ (c : Bool). binds_name x ds || c) (sym (or-false (bytes_eq y x)))

  identifier-adds : (ds : List Declared) (p : Place) (r : Role) (y : Text) → binds_name x (with_identifier ds p r y) ≡ (binds_name x ds || (is_binding r && bytes_eq y x))
  identifier-adds ds p (Binds b) y = symbol-adds ds (scope_for ds p b y) y b
  identifier-adds ds p _ y = or-false (binds_name x ds)

  class-adds : (ds : List Declared) (s : ℕ) (fs : Fields) → binds_name x (with_class ds s fs) ≡ (binds_name x ds || is_name_of x (child_at 0 fs))
  class-adds ds s (one t then fs) = symbol-adds ds s (own_text t) Class
  class-adds ds s _ = or-false (binds_name x ds)

  -- NODES, one after the other

  abbrev own : Visit → Bool
  own v = own_declares x (is_binding v.place.role) v.kind v.label v.fields

  node-adds : (ds : List Declared) (p : Place) (n : ℕ) (k : AstType) (l : Label) (fs : Fields) → binds_name x (with_node ds p n k l fs) ≡ (binds_name x ds || own_declares x (is_binding p.role) k l fs)
  node-adds ds p n Identifier l fs = identifier-adds ds p p.role (first_text l.texts)
  node-adds ds p n ClassDeclaration l fs = class-adds ds (own_scope n ClassDeclaration fs) fs
  node-adds ds p n ClassExpression l fs = class-adds ds (own_scope n ClassExpression fs) fs
  node-adds ds p n _ l fs = or-false (binds_name x ds)

  visits-add : (ds : List Declared) (vs : List Visit) → binds_name x (with_visits ds vs) ≡ (binds_name x ds || list_any own vs)
  visits-add ds [] = or-false (binds_name x ds)
  visits-add ds (v ∷ vs) =
      visits-add (with_node ds v.place v.next v.kind v.label v.fields) vs
      ∙ ap (λ (b : Bool). b || list_any own vs) (node-adds ds v.place v.next v.kind v.label v.fields)
      ∙ or-grouped (binds_name x ds) (own v) (list_any own vs)

  mutual
    tree-same : (p : Place) (n : ℕ) (t : Tree) (b : Bool) → is_binding p.role ≡ b → list_any own (visits p n t) ≡ declares x b t
    tree-same p n (node k l fs) b e = λ i. own_declares x (e i) k l fs || fields-same (place_in p n k l fs) (n + own_scope_count k fs) fs (declares_at b k) (λ j. role-declares p.role k l fs j ∙ ap (λ (c : Bool). declares_at c k j) e) i

    fields-same : (ps : ℕ → Place) (n : ℕ) (fs : Fields) (bs : ℕ → Bool) → ((i : ℕ) → is_binding (ps i).role ≡ bs i) → list_any own (visits_in_fields ps n fs) ≡ declares_in x bs fs
    fields-same ps n done bs e = refl
    fields-same ps n (f then fs) bs e =
        let m = n + scope_count_in_field f in
        list_any-append own (visits_in_field (ps zero) n f) (visits_in_fields (λ i. ps (suc i)) m fs) ∙ (λ i. field-same (ps zero) n f (bs zero) (e zero) i || fields-same (λ j. ps (suc j)) m fs (λ j. bs (suc j)) (λ j. e (suc j)) i)

    field-same : (p : Place) (n : ℕ) (f : Field) (b : Bool) → is_binding p.role ≡ b → list_any own (visits_in_field p n f) ≡ declares_by x b f
    field-same p n missing b e = refl
    field-same p n (one t) b e = tree-same p n t b e
    field-same p n (many ts) b e = trees-same p n ts b e
    field-same p n (statements ts) b e = trees-same p n ts b e

    trees-same : (p : Place) (n : ℕ) (ts : Trees) (b : Bool) → is_binding p.role ≡ b → list_any own (visits_in_trees p n ts) ≡ declares_among x b ts
    trees-same p n empty b e = refl
    trees-same p n (t before ts) b e =
        let m = n + scope_count_in t in
        list_any-append own (visits p n t) (visits_in_trees p m ts) ∙ (λ i. tree-same p n t b e i || trees-same p m ts b e i)

pub law_bound_proof : LawBound
law_bound_proof x p = visits-add x [] (visits (outermost p) 1 p) ∙ tree-same x (outermost p) 1 p false refl
