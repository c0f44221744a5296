-- What an identifier binds, by its parent.
use Rattle.std.proofs.Common.{◌≡◌, ℕ, zero, suc, ◌==◌, ◌+◌, ◌<◌, length, take, get_or, List, [], ◌∷◌, ◌++◌, true, false, map, Result, Ok, Err, OnOk, append_assoc, refl, ap, ◌∙◌, rules, tests}
use Rattle.std.proofs.lemmas.List.{map-append, take_more}
use Rattle.es_tree.specs.Ancestors.{Ancestor, ancestor}
use Rattle.es_tree.specs.DeclaredNames.{Name, bound_names, catch_names, declaration_names, exports_of, function_names, lexical_names, name, parameter_names}
use Rattle.es_tree.specs.Tree.{Label, Fields}
use Rattle.es_tree.specs.Words.{Text}
use Rattle.es_tree.specs.declared.ast_type.AstType.{AstType}
use Rattle.es_tree.specs.declared.ast_type.AstType.TheVariants.{Program, VariableDeclarator, FunctionDeclaration, FunctionExpression, ArrowFunctionExpression, ClassDeclaration, CatchClause, ImportSpecifier, ImportDefaultSpecifier, ImportNamespaceSpecifier, ObjectPattern, PatternProperty, AssignmentPattern, RestElement}
use Rattle.es_tree.specs.declared.place.Namespace.{Namespace}
use Rattle.es_static_rules.specs.Bindings.{Adds, binding_of, plain_name, slot_names}
use Rattle.es_static_rules.specs.declared.names.Name.{Name as HeldName}
use Rattle.es_static_rules.specs.declared.names.Binding.{Binding}
use Rattle.es_static_rules.specs.declared.names.Binding.TheVariants.{Pattern, Declarator, Function, Parameter, Class, Catch, Import, Nothing}

-- what it declares
abbrev pub by_binding : Binding → Ancestor → List Ancestor → Text → List Name
by_binding Pattern a up x = bound_names up x
by_binding Declarator a up x = declaration_names up x
by_binding Function a up x = function_names up x ++ exports_of up x
by_binding Parameter a up x = parameter_names a.number x
by_binding Class a up x = lexical_names up x ++ exports_of up x
by_binding Catch a up x = catch_names a x
by_binding Import a up x = lexical_names up x
by_binding Nothing a up x = []

not_zero : (n : ℕ) → (suc (suc n) == 0) ≡ false
not_zero n = search (rules, tests)

not_one : (n : ℕ) → (suc (suc n) == 1) ≡ false
not_one n = search (rules, tests)

binds_first : (k : AstType) (l : Label) (fs : Fields) (n : ℕ) (up : List Ancestor) (x : Text) → bound_names (ancestor k l fs 0 n ∷ up) x ≡ by_binding (binding_of k 0) (ancestor k l fs 0 n) up x
binds_first Program l fs n up x = refl
binds_first _ l fs n up x = refl

binds_second : (k : AstType) (l : Label) (fs : Fields) (n : ℕ) (up : List Ancestor) (x : Text) → bound_names (ancestor k l fs 1 n ∷ up) x ≡ by_binding (binding_of k 1) (ancestor k l fs 1 n) up x
binds_second Program l fs n up x = refl
binds_second _ l fs n up x = refl

binds_later : (k : AstType) (i : ℕ) (l : Label) (fs : Fields) (n : ℕ) (up : List Ancestor) (x : Text) → bound_names (ancestor k l fs (suc (suc i)) n ∷ up) x ≡ by_binding (binding_of k (suc (suc i))) (ancestor k l fs (suc (suc i)) n) up x
binds_later ObjectPattern i l fs n up x = rw not_zero refl
binds_later PatternProperty i l fs n up x = rw not_one refl
binds_later AssignmentPattern i l fs n up x = rw not_zero refl
binds_later RestElement i l fs n up x = rw not_zero refl
binds_later VariableDeclarator i l fs n up x = rw not_zero refl
binds_later FunctionDeclaration i l fs n up x = rw (not_zero, not_one) refl
binds_later FunctionExpression i l fs n up x = rw not_one refl
binds_later ArrowFunctionExpression i l fs n up x = rw not_zero refl
binds_later ClassDeclaration i l fs n up x = rw not_zero refl
binds_later CatchClause i l fs n up x = rw not_zero refl
binds_later ImportSpecifier i l fs n up x = rw not_one refl
binds_later ImportDefaultSpecifier i l fs n up x = rw not_zero refl
binds_later ImportNamespaceSpecifier i l fs n up x = rw not_zero refl
binds_later _ i l fs n up x = refl

bound_names-at : (k : AstType) (i : ℕ) (l : Label) (fs : Fields) (n : ℕ) (up : List Ancestor) (x : Text) → bound_names (ancestor k l fs i n ∷ up) x ≡ by_binding (binding_of k i) (ancestor k l fs i n) up x
bound_names-at k zero l fs n up x = binds_first k l fs n up x
bound_names-at k (suc zero) l fs n up x = binds_second k l fs n up x
bound_names-at k (suc (suc i)) l fs n up x = binds_later k i l fs n up x

pub bound_names-binding : (a : Ancestor) (up : List Ancestor) (x : Text) → bound_names (a ∷ up) x ≡ by_binding (binding_of a.kind a.index) a up x
bound_names-binding a up x = bound_names-at a.kind a.index a.label a.fields a.number up x

-- the same of a stack of ancestors
pub bound_by : (whole up : List Ancestor) (a : Ancestor) (k : AstType) (x : Text) (b : Binding) → whole ≡ a ∷ up → k ≡ a.kind → b ≡ binding_of k a.index → bound_names whole x ≡ by_binding b a up x
bound_by whole up a k x b e same d = rw (e, d, same) (bound_names-binding a up x)

pub Adds-both : (old mid new : List HeldName) (xs ys : List Name) → Adds old mid xs → Adds mid new ys → Adds old new (xs ++ ys)
Adds-both old mid new xs ys e d = d ∙ (ap (λ ns. ns ++ ys) e ∙ append_assoc (map plain_name old) xs ys)

pub OnOk-both : {E : Type 0} (r : Result (Unit {0}) E) (old mid new : List HeldName) (xs ys : List Name) → Adds old mid xs → OnOk r (Adds mid new ys) → OnOk r (Adds old new (xs ++ ys))
OnOk-both (Ok u) old mid new xs ys e d = Adds-both old mid new xs ys e d
OnOk-both (Err u) old mid new xs ys e d = d

-- a slot more
pub Adds-slot : (old mid new : List HeldName) (ss : List Namespace) (n : ℕ) (x : Text) (i : ℕ) (d : Namespace) → i < length ss → Adds old mid (slot_names (take i ss) n x) → Adds mid new (name (get_or ss i d) n x true ∷ []) → Adds old new (slot_names (take (i + 1) ss) n x)
Adds-slot old mid new ss n x i d h before more =
    let taken : slot_names (take (i + 1) ss) n x ≡ slot_names (take i ss) n x ++ slot_names (get_or ss i d ∷ []) n x =
    ap (λ ts. slot_names ts n x) (take_more ss i d h) ∙ map-append (λ t. name t n x true) (take i ss) (get_or ss i d ∷ []) in
    rw taken (Adds-both old mid new (slot_names (take i ss) n x) (name (get_or ss i d) n x true ∷ []) before more)
