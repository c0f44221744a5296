-- What a tree declares where its ancestors differ only in what no declared name asks for: the fields of an ancestor, and whether it is an
-- arrow or a function.
use Rattle.std.proofs.Common.{◌≡◌, ◌==◌, ℕ, suc, refl, List, [], ◌∷◌, ◌++◌, filter, map}
use Rattle.std.specs.Prelude.{Bool, true, false, not, ◌&&◌, ◌||◌, bytes_eq, codes, if◌then◌else◌}
use Rattle.es_tree.specs.Ancestors.{Ancestor, ancestor, is_boundary, is_module, is_scope, leads_by, scopes, stands_in}
use Rattle.es_tree.specs.CoreStaticRules.{is_lexical}
use Rattle.es_tree.specs.DeclaredNames.{Name, bound_names, catch_names, constructor_names, declaration_names, declared, export_name, exported_names, exports_of, function_names, lexical_names, name, names_in_scope, parameter_names, private_names, slots, var_names}
use Rattle.es_tree.specs.HasForm.{same_type}
use Rattle.es_tree.specs.Names.{first_text}
use Rattle.es_tree.specs.Tree.{Tree, node, Label, Fields, done, ◌then◌, Field, missing, one, many, statements, Trees, empty, ◌before◌}
use Rattle.es_tree.specs.Words.{Text}
use Rattle.es_tree.specs.declared.ast_type.AstType.{AstType}
use Rattle.es_tree.specs.declared.ast_type.AstType.TheVariants.{ArrowFunctionExpression, BlockStatement, CatchClause, ClassDeclaration, ExportAllDeclaration, ExportDefaultDeclaration, ExportNamedDeclaration, ExportSpecifier, FunctionBody, FunctionDeclaration, FunctionExpression, Identifier, MethodDefinition, PrivateIdentifier, Program, PropertyDefinition, StaticBlock, StringLiteral, VariableDeclaration, VariableDeclarator}
use Rattle.es_tree.specs.declared.place.Namespace.TheVariants.{Constructors, PrivateNames, Scope}
use Rattle.es_valid_names.proofs.Claims.{above, face, claims, claims_all, claims_by, claims_in, is_owned, push}
use Rattle.es_valid_names.proofs.Mute.{beyond_catch, beyond_class, is_imported, is_parameter, is_part}

-- ANCESTORS

pub data Like : Ancestor → Ancestor → Type 0 where
  same : {a : Ancestor} → Like a a
  other_fields : {k : AstType} {l : Label} {fs gs : Fields} {i n : ℕ} → same_type k CatchClause ≡ false → Like (ancestor k l fs i n) (ancestor k l gs i n)
  parameters : {l m : Label} {fs gs : Fields} {n : ℕ} → Like (ancestor ArrowFunctionExpression l fs 0 n) (ancestor FunctionExpression m gs 1 n)
  in_body : {l m : Label} {fs gs : Fields} {n : ℕ} → Like (ancestor ArrowFunctionExpression l fs 1 n) (ancestor FunctionExpression m gs 2 n)

pub data AllLike : List Ancestor → List Ancestor → Type 0 where
  none : AllLike [] []
  some : {a b : Ancestor} {up vp : List Ancestor} → Like a b → AllLike up vp → AllLike (a ∷ up) (b ∷ vp)

pub like-self : (up : List Ancestor) → AllLike up up
like-self [] = none
like-self (a ∷ up) = some same (like-self up)

-- WHAT IS ASKED OF THEM

neither : (a b : Bool) (i j k : ℕ) → a ≡ false → b ≡ false → (b && (i == j)) ≡ (a && (k == j))
neither true b i j k e d = absurd (cc e)
neither false true i j k e d = absurd (cc d)
neither false false i j k e d = refl

stands-like : (k : AstType) (i : ℕ) → same_type ArrowFunctionExpression k ≡ false → same_type FunctionExpression k ≡ false → {up vp : List Ancestor} → AllLike up vp → stands_in k i vp ≡ stands_in k i up
stands-like k i e d none = refl
stands-like k i e d (some same h) = refl
stands-like k i e d (some (other_fields c) h) = refl
stands-like k i e d (some parameters h) = neither (same_type ArrowFunctionExpression k) (same_type FunctionExpression k) 1 i 0 e d
stands-like k i e d (some in_body h) = neither (same_type ArrowFunctionExpression k) (same_type FunctionExpression k) 2 i 1 e d

module-like : {up vp : List Ancestor} → AllLike up vp → is_module vp ≡ is_module up
module-like none = refl
module-like (some (same {a = a}) h) = λ j. (same_type a.kind Program && bytes_eq (first_text a.label.texts) (codes "module")) || module-like h j
module-like (some (other_fields {k = k} {l = l} c) h) = λ j. (same_type k Program && bytes_eq (first_text l.texts) (codes "module")) || module-like h j
module-like (some parameters h) = λ j. false || module-like h j
module-like (some in_body h) = λ j. false || module-like h j

scopes-like : {up vp : List Ancestor} → AllLike up vp → scopes vp ≡ scopes up
scopes-like none = refl
scopes-like (some (same {a = a}) h) = λ j. if is_scope a.kind && not (same_type a.kind BlockStatement && stands-like CatchClause 1 refl refl h j) then (if is_boundary a.kind then a.number ∷ [] else a.number ∷ scopes-like h j) else scopes-like h j
scopes-like (some (other_fields {k = k} {n = n} c) h) = λ j. if is_scope k && not (same_type k BlockStatement && stands-like CatchClause 1 refl refl h j) then (if is_boundary k then n ∷ [] else n ∷ scopes-like h j) else scopes-like h j
scopes-like (some parameters h) = refl
scopes-like (some in_body h) = refl

exports-like : (x : Text) {up vp : List Ancestor} → AllLike up vp → exports_of vp x ≡ exports_of up x
exports-like x h = λ j. if stands-like ExportNamedDeclaration 0 refl refl h j then export_name x else []

lexical-like : (x : Text) {up vp : List Ancestor} → AllLike up vp → lexical_names vp x ≡ lexical_names up x
lexical-like x h = λ j. names_in_scope (scopes-like h j) x true

vars-like : (x : Text) {up vp : List Ancestor} → AllLike up vp → var_names vp x ≡ var_names up x
vars-like x h = λ j. map (λ n. name Scope n x false) (scopes-like h j)

functions-like : (x : Text) {up vp : List Ancestor} → AllLike up vp → function_names vp x ≡ function_names up x
functions-like x h = λ j. names_in_scope (scopes-like h j) x (not (stands-like FunctionBody 1 refl refl h j || stands-like StaticBlock 0 refl refl h j || (stands-like Program 1 refl refl h j && not (module-like h j))))

declarations-like : (x : Text) {up vp : List Ancestor} → AllLike up vp → declaration_names vp x ≡ declaration_names up x
declarations-like x none = refl
declarations-like x (some (same {a = a}) h) = λ j. if same_type a.kind VariableDeclaration then (if is_lexical (first_text a.label.texts) then lexical-like x h j else vars-like x h j) ++ exports-like x h j else []
declarations-like x (some (other_fields {k = k} {l = l} c) h) = λ j. if same_type k VariableDeclaration then (if is_lexical (first_text l.texts) then lexical-like x h j else vars-like x h j) ++ exports-like x h j else []
declarations-like x (some parameters h) = refl
declarations-like x (some in_body h) = refl

-- the names of a catch clause alone ask for its fields
catch-like : (c d : Bool) (xs ys zs ws : List Name) → c ≡ false → zs ≡ ws → (if c && d then xs else zs) ≡ (if c && d then ys else ws)
catch-like true d xs ys zs ws e h = absurd (cc e)
catch-like false d xs ys zs ws e h = h

bound-like : (x : Text) {up vp : List Ancestor} → AllLike up vp → bound_names vp x ≡ bound_names up x
bound-like x none = refl
bound-like x (some (same {a = a}) h) = λ j.
    if is_part a then bound-like x h j
    else if leads_by VariableDeclarator 0 a then declarations-like x h j
    else if leads_by FunctionDeclaration 0 a then functions-like x h j ++ exports-like x h j
    else if is_parameter a then parameter_names a.number x
    else if leads_by ClassDeclaration 0 a then lexical-like x h j ++ exports-like x h j
    else if leads_by CatchClause 0 a then catch_names a x
    else if is_imported a then lexical-like x h j
    else []
bound-like x (some {up = up} {vp = vp} (other_fields {k = k} {l = l} {fs = fs} {gs = gs} {i = i} {n = n} c) h) =
    let beyond : beyond_class (ancestor k l gs i n) vp x ≡ beyond_class (ancestor k l fs i n) up x = catch-like (same_type k CatchClause) (i == 0) (catch_names (ancestor k l gs i n) x) (catch_names (ancestor k l fs i n) x) (beyond_catch (ancestor k l gs i n) vp x) (beyond_catch (ancestor k l fs i n) up x) c (λ j. if is_imported (ancestor k l done i n) then lexical-like x h j else []) in
    λ j.
    if is_part (ancestor k l done i n) then bound-like x h j
    else if leads_by VariableDeclarator 0 (ancestor k l done i n) then declarations-like x h j
    else if leads_by FunctionDeclaration 0 (ancestor k l done i n) then functions-like x h j ++ exports-like x h j
    else if is_parameter (ancestor k l done i n) then parameter_names n x
    else if leads_by ClassDeclaration 0 (ancestor k l done i n) then lexical-like x h j ++ exports-like x h j
    else beyond j
bound-like x (some parameters h) = refl
bound-like x (some in_body h) = refl

exported-like : (x : Text) {up vp : List Ancestor} → AllLike up vp → exported_names vp x ≡ exported_names up x
exported-like x h = λ j. if stands-like ExportSpecifier 1 refl refl h j || stands-like ExportAllDeclaration 0 refl refl h j then export_name x else []

number-like : {a b : Ancestor} → Like a b → b.number ≡ a.number
number-like same = refl
number-like (other_fields c) = refl
number-like parameters = refl
number-like in_body = refl

private-like : (x : Text) {up vp : List Ancestor} → AllLike up vp → private_names vp x ≡ private_names up x
private-like x none = refl
private-like x (some a none) = refl
private-like x (some (same {a = a}) (some c h)) = λ j. if leads_by MethodDefinition 0 a || leads_by PropertyDefinition 0 a then name PrivateNames (number-like c j) x false ∷ map (λ s. name s (number-like c j) x true) (slots a) else []
private-like x (some (other_fields {k = k} {l = l} {i = i} {n = n} e) (some c h)) = λ j. if leads_by MethodDefinition 0 (ancestor k l done i n) || leads_by PropertyDefinition 0 (ancestor k l done i n) then name PrivateNames (number-like c j) x false ∷ map (λ s. name s (number-like c j) x true) (slots (ancestor k l done i n)) else []
private-like x (some parameters (some c h)) = refl
private-like x (some in_body (some c h)) = refl

constructor-like : (x : Text) {up vp : List Ancestor} → AllLike up vp → constructor_names vp x ≡ constructor_names up x
constructor-like x none = refl
constructor-like x (some c h) = λ j. if bytes_eq x (codes "constructor") then name Constructors (number-like c j) [] true ∷ [] else []

-- WHAT TREES DECLARE

pub declared-like : {up vp : List Ancestor} → AllLike up vp → (t : Tree) → declared vp t ≡ declared up t
declared-like h (node Identifier l fs) = λ j. bound-like (first_text l.texts) h j ++ exported-like (first_text l.texts) h j
declared-like h (node StringLiteral l fs) = exported-like (first_text l.texts) h
declared-like h (node PrivateIdentifier l fs) = private-like (first_text l.texts) h
declared-like h (node MethodDefinition l fs) = constructor-like (first_text l.texts) h
declared-like h (node ExportDefaultDeclaration l fs) = refl
declared-like h (node _ l fs) = refl

mutual
  pub claims-like : {up vp : List Ancestor} → AllLike up vp → (t : Tree) → claims is_owned vp t ≡ claims is_owned up t
  claims-like h (node k l fs) = λ j. push (filter is_owned (declared-like h (node k l fs) j)) (claims-in-like h k l fs 0 0 fs j)

  pub claims-in-like : {up vp : List Ancestor} → AllLike up vp → (k : AstType) (l : Label) (all : Fields) (m i : ℕ) (fs : Fields) → claims_in is_owned vp k l all m i fs ≡ claims_in is_owned up k l all m i fs
  claims-in-like h k l all m i done = refl
  claims-in-like h k l all m i (f then fs) = λ j. claims-by-like (some (same {a = above k l all i m}) h) f j ++ claims-in-like h k l all m (suc i) fs j

  pub claims-by-like : {up vp : List Ancestor} → AllLike up vp → (f : Field) → claims_by is_owned vp f ≡ claims_by is_owned up f
  claims-by-like h missing = refl
  claims-by-like h (one t) = claims-like h t
  claims-by-like h (many ts) = claims-all-like h ts
  claims-by-like h (statements ts) = claims-all-like h ts

  pub claims-all-like : {up vp : List Ancestor} → AllLike up vp → (ts : Trees) → claims_all is_owned vp ts ≡ claims_all is_owned up ts
  claims-all-like h empty = refl
  claims-all-like h (t before ts) = λ j. claims-like h t j ++ claims-all-like h ts j

-- other fields of the node around
pub other-claims : (up : List Ancestor) (k : AstType) (l : Label) (all now : Fields) (m i : ℕ) (fs : Fields) → same_type k CatchClause ≡ false → claims_in is_owned up k l now m i fs ≡ claims_in is_owned up k l all m i fs
other-claims up k l all now m i done e = refl
other-claims up k l all now m i (f then fs) e = λ j. claims-by-like (some (other_fields {k = k} {l = l} {fs = face i all} {gs = face i now} {i = i} {n = m} e) (like-self up)) f j ++ other-claims up k l all now m (suc i) fs e j
