-- An expression declares nothing around it: where its tree has form, each declaration in it stands in a function, an arrow, a static
-- block or a class that is a part of it (ECMA-262, 8.2).
use Rattle.std.proofs.Common.{◌≡◌, ◌==◌, ℕ, suc, refl, sym, subst, ◌∙◌, List, [], ◌∷◌, ◌++◌, filter, cond, map}
use Rattle.std.specs.Prelude.{Bool, true, false, not, ◌&&◌, ◌||◌, Some, if◌then◌else◌, bytes_eq, codes}
use Rattle.es_tree.specs.Ancestors.{Ancestor, ancestor, is_boundary, is_class, is_scope, leads_by, makes_scope, scopes, stands_in}
use Rattle.es_tree.specs.Attributes.{child_entries}
use Rattle.es_tree.specs.CoreStaticRules.{is_lexical}
use Rattle.es_tree.specs.DeclaredNames.{Name, bound_names, constructor_names, catch_names, declaration_names, declared, export_name, exported_names, exports_of, function_names, is_at_top, lexical_names, name, names_in_scope, parameter_names, private_names, slots, is_class_key, var_names}
use Rattle.es_tree.specs.HasForm.{ElementsPlace, elements_of, has_form, same_type}
use Rattle.es_tree.specs.Names.{first_text}
use Rattle.es_tree.specs.Tree.{Tree, node, Label, Fields, done, ◌then◌, Field, missing, one, many, statements, Trees, empty, ◌before◌, kind_of, fields_of}
use Rattle.es_tree.specs.Words.{Text}
use Rattle.es_tree.specs.declared.ast_type.AstType.{AstType}
use Rattle.es_tree.specs.declared.ast_type.AstType.TheVariants.{ArrayExpression, ArrayPattern, ArrayTarget, ArrowFunctionExpression, AssignmentPattern, BlockStatement, BreakStatement, CatchClause, ClassDeclaration, ContinueStatement, DebuggerStatement, DoWhileStatement, EmptyStatement, ExportAllDeclaration, ExportDefaultDeclaration, ExportNamedDeclaration, ExportSpecifier, ExpressionStatement, ForInStatement, ForOfStatement, ForStatement, FunctionBody, FunctionDeclaration, FunctionExpression, Identifier, IfStatement, ImportDeclaration, ImportDefaultSpecifier, ImportNamespaceSpecifier, ImportSpecifier, LabeledStatement, MethodDefinition, ObjectPattern, ParenthesizedExpression, PatternProperty, PrivateIdentifier, Program, PropertyDefinition, RestElement, ReturnStatement, StaticBlock, StringLiteral, SwitchCase, SwitchStatement, ThrowStatement, TryStatement, VariableDeclaration, VariableDeclarator, WhileStatement}
use Rattle.es_tree.specs.declared.place.Namespace.{Namespace}
use Rattle.es_tree.specs.declared.place.Namespace.TheVariants.{Constructors, PrivateNames, Scope}
use Rattle.es_tree.specs.declared.table.Sort.{Sort}
use Rattle.es_tree.specs.declared.table.Sort.TheVariants.{Expression as s-Expression}
use Rattle.es_semantic.proofs.FormEdges.{Edges, EdgesAll, EdgesBy, EdgesIn, ElementsFit, TableFits, edges-inside, edges-tree, elements-are, entries_fit, is_last}
use Rattle.es_valid_names.proofs.Claims.{above, claims, claims_all, claims_by, claims_in, face, is_owned, push}

-- NAMES that aren't owned

abbrev pub Free : List Name → Type 0
Free [] = Unit {0}
Free (n ∷ ns) = (is_owned n ≡ false) × Free ns

pub free-append : (xs ys : List Name) → Free xs → Free ys → Free (xs ++ ys)
free-append [] ys h k = k
free-append (x ∷ xs) ys h k = (h.0, free-append xs ys h.1 k)

pub free-filter : (xs : List Name) → Free xs → filter is_owned xs ≡ []
free-filter [] h = refl
free-filter (x ∷ xs) h = (λ i. cond (h.0 i) (x ∷ filter is_owned xs) (filter is_owned xs)) ∙ free-filter xs h.1

pub free-if : (b : Bool) (xs ys : List Name) → Free xs → Free ys → Free (if b then xs else ys)
free-if true xs ys h k = h
free-if false xs ys h k = k

pub free-exports : (up : List Ancestor) (x : Text) → Free (exports_of up x)
free-exports up x = free-if (stands_in ExportNamedDeclaration 0 up) (export_name x) [] (refl, tt) tt

pub free-exported : (up : List Ancestor) (x : Text) → Free (exported_names up x)
free-exported up x = free-if (stands_in ExportSpecifier 1 up || stands_in ExportAllDeclaration 0 up) (export_name x) [] (refl, tt) tt

abbrev AllOther : List ℕ → Type 0
AllOther [] = Unit {0}
AllOther (n ∷ ns) = ((n == 1) ≡ false) × AllOther ns

pub free-first : (ns : List ℕ) (x : Text) (b : Bool) → AllOther ns → Free (names_in_scope ns x b)
free-first [] x b h = tt
free-first (n ∷ ns) x b h = (h.0, tt)

pub free-vars : (ns : List ℕ) (x : Text) → AllOther ns → Free (map (λ n. name Scope n x false) ns)
free-vars [] x h = tt
free-vars (n ∷ ns) x h = (h.0, free-vars ns x h.1)

-- the parent isn't looked at
abbrev pub FirstOther : List Ancestor → Type 0
FirstOther [] = Unit {0}
FirstOther (a ∷ up) = (a.number == 1) ≡ false

free-slots : (n : ℕ) (x : Text) (ss : List Namespace) → (n == 1) ≡ false → Free (map (λ s. name s n x true) ss)
free-slots n x [] h = tt
free-slots n x (s ∷ ss) h = (h, free-slots n x ss h)

-- of the key of a class's member, where the class isn't looked at
pub free-private : (a : Ancestor) (up : List Ancestor) (x : Text) → (is_class_key (a ∷ []) ≡ true → FirstOther up) → Free (private_names (a ∷ up) x)
free-private a [] x h = tt
free-private a (c ∷ up) x h = at (is_class_key (a ∷ [])) h
  where
    at : (b : Bool) → (b ≡ true → (c.number == 1) ≡ false) → Free (if b then name PrivateNames c.number x false ∷ map (λ s. name s c.number x true) (slots a) else [])
    at true h = (h refl, free-slots c.number x (slots a) (h refl))
    at false h = tt

pub free-constructor : (up : List Ancestor) (x : Text) → FirstOther up → Free (constructor_names up x)
free-constructor [] x h = tt
free-constructor (a ∷ up) x h = free-if (bytes_eq x (codes "constructor")) (name Constructors a.number [] true ∷ []) [] (h, tt) tt

-- WHAT BINDS AN IDENTIFIER, case by case

abbrev pub is_part : Ancestor → Bool
is_part a = leads_by ObjectPattern 0 a || same_type a.kind ArrayPattern || leads_by PatternProperty 1 a || leads_by AssignmentPattern 0 a || leads_by RestElement 0 a

abbrev pub is_parameter : Ancestor → Bool
is_parameter a = leads_by FunctionDeclaration 1 a || leads_by FunctionExpression 1 a || leads_by ArrowFunctionExpression 0 a

abbrev pub is_imported : Ancestor → Bool
is_imported a = leads_by ImportSpecifier 1 a || leads_by ImportDefaultSpecifier 0 a || leads_by ImportNamespaceSpecifier 0 a

abbrev pub beyond_catch : Ancestor → List Ancestor → Text → List Name
beyond_catch a up x = if is_imported a then lexical_names up x else []

abbrev pub beyond_class : Ancestor → List Ancestor → Text → List Name
beyond_class a up x = if leads_by CatchClause 0 a then catch_names a x else beyond_catch a up x

abbrev pub beyond_parameter : Ancestor → List Ancestor → Text → List Name
beyond_parameter a up x = if leads_by ClassDeclaration 0 a then lexical_names up x ++ exports_of up x else beyond_class a up x

abbrev pub beyond_function : Ancestor → List Ancestor → Text → List Name
beyond_function a up x = if is_parameter a then parameter_names a.number x else beyond_parameter a up x

abbrev pub beyond_declarator : Ancestor → List Ancestor → Text → List Name
beyond_declarator a up x = if leads_by FunctionDeclaration 0 a then function_names up x ++ exports_of up x else beyond_function a up x

abbrev pub beyond_part : Ancestor → List Ancestor → Text → List Name
beyond_part a up x = if leads_by VariableDeclarator 0 a then declaration_names up x else beyond_declarator a up x

-- SEALED PLACES: below a function, an arrow or a static block that isn't looked at

pub record Sealed (up : List Ancestor) : Type 0 where
  pub bound : (x : Text) → Free (bound_names up x)
  pub declaration : (x : Text) → Free (declaration_names up x)
  pub private : (x : Text) → Free (private_names up x)
  pub scoped : AllOther (scopes up)
  pub first : FirstOther up

pub free-declared : (up : List Ancestor) (t : Tree) → ((x : Text) → Free (bound_names up x)) → ((x : Text) → Free (private_names up x)) → FirstOther up → Free (declared up t)
free-declared up (node Identifier l fs) b p f = free-append (bound_names up (first_text l.texts)) (exported_names up (first_text l.texts)) (b (first_text l.texts)) (free-exported up (first_text l.texts))
free-declared up (node StringLiteral l fs) b p f = free-exported up (first_text l.texts)
free-declared up (node PrivateIdentifier l fs) b p f = p (first_text l.texts)
free-declared up (node MethodDefinition l fs) b p f = free-constructor up (first_text l.texts) f
free-declared up (node ExportDefaultDeclaration l fs) b p f = (refl, tt)
free-declared up (node _ l fs) b p f = tt

all-if : (b : Bool) (xs ys : List ℕ) → AllOther xs → AllOther ys → AllOther (if b then xs else ys)
all-if true xs ys h k = h
all-if false xs ys h k = k

-- the same but for the parent
pub record Still (up : List Ancestor) : Type 0 where
  pub bound : (x : Text) → Free (bound_names up x)
  pub declaration : (x : Text) → Free (declaration_names up x)
  pub private : (x : Text) → Free (private_names up x)
  pub scoped : AllOther (scopes up)

free-where : (b : Bool) (xs ys : List Name) → (b ≡ true → Free xs) → Free ys → Free (if b then xs else ys)
free-where true xs ys h k = h refl
free-where false xs ys h k = k

all-where : (b : Bool) (xs ys : List ℕ) → (b ≡ true → AllOther xs) → AllOther ys → AllOther (if b then xs else ys)
all-where true xs ys h k = h refl
all-where false xs ys h k = k

parameter-scope : (k : AstType) (l : Label) (fs : Fields) (i m : ℕ) → is_parameter (ancestor k l fs i m) ≡ true → is_scope k ≡ true
parameter-scope FunctionDeclaration l fs i m e = refl
parameter-scope FunctionExpression l fs i m e = refl
parameter-scope ArrowFunctionExpression l fs i m e = refl
parameter-scope _ l fs i m e = absurd (cc e)

catch-scope : (k : AstType) (l : Label) (fs : Fields) (i m : ℕ) → leads_by CatchClause 0 (ancestor k l fs i m) ≡ true → is_scope k ≡ true
catch-scope CatchClause l fs i m e = refl
catch-scope _ l fs i m e = absurd (cc e)

and-first : (b c : Bool) → (b && c) ≡ true → b ≡ true
and-first true c e = refl
and-first false c e = e

module _ (k : AstType) (l : Label) (all : Fields) (i m : ℕ) (other : is_scope k ≡ true → (m == 1) ≡ false) (up : List Ancestor) (bound : (x : Text) → Free (bound_names up x)) (declaration : (x : Text) → Free (declaration_names up x)) (scoped : AllOther (scopes up)) (key : is_class_key (above k l all i m ∷ []) ≡ true → FirstOther up) where
  abbrev inner : List Ancestor
  inner = above k l all i m ∷ up

  still-bound : (x : Text) → Free (bound_names inner x)
  still-bound x =
      let a = above k l all i m in
      free-if (is_part a) (bound_names up x) (beyond_part a up x) (bound x)
      (free-if (leads_by VariableDeclarator 0 a) (declaration_names up x) (beyond_declarator a up x) (declaration x)
      (free-if (leads_by FunctionDeclaration 0 a) (function_names up x ++ exports_of up x) (beyond_function a up x) (free-append (function_names up x) (exports_of up x) (free-first (scopes up) x (not (is_at_top up)) scoped) (free-exports up x))
      (free-where (is_parameter a) (parameter_names m x) (beyond_parameter a up x) (λ e. (let d = other (parameter-scope k l (face i all) i m e) in (d, (d, tt))))
      (free-if (leads_by ClassDeclaration 0 a) (lexical_names up x ++ exports_of up x) (beyond_class a up x) (free-append (lexical_names up x) (exports_of up x) (free-first (scopes up) x true scoped) (free-exports up x))
      (free-where (leads_by CatchClause 0 a) (catch_names a x) (beyond_catch a up x) (λ e. (other (catch-scope k l (face i all) i m e), tt))
      (free-if (is_imported a) (lexical_names up x) [] (free-first (scopes up) x true scoped) tt))))))

  pub still-in : Still inner
  still-in = record {
    bound = still-bound;
    declaration = λ x. free-if _ ((if is_lexical (first_text l.texts) then lexical_names up x else var_names up x) ++ exports_of up x) [] (free-append (if is_lexical (first_text l.texts) then lexical_names up x else var_names up x) (exports_of up x) (free-if (is_lexical (first_text l.texts)) (lexical_names up x) (var_names up x) (free-first (scopes up) x true scoped) (free-vars (scopes up) x scoped)) (free-exports up x)) tt;
    private = λ x. free-private (above k l all i m) up x key;
    scoped = all-where (makes_scope k up) (if is_boundary k then m ∷ [] else m ∷ scopes up) (scopes up) (λ e. (let d = other (and-first (is_scope k) (not (same_type k BlockStatement && stands_in CatchClause 1 up)) e) in all-if (is_boundary k) (m ∷ []) (m ∷ scopes up) (d, tt) (d, scoped))) scoped;
  }

pub sealed-in : (k : AstType) (l : Label) (all : Fields) (i m : ℕ) → (m == 1) ≡ false → (up : List Ancestor) → Sealed up → Sealed (above k l all i m ∷ up)
sealed-in k l all i m other up h =
    let s = still-in k l all i m (λ e. other) up h.bound h.declaration h.scoped (λ e. h.first) in
    record { bound = s.bound; declaration = s.declaration; private = s.private; scoped = s.scoped; first = other }

mutual
  pub sealed-tree : (up : List Ancestor) (t : Tree) → Sealed up → claims is_owned up t ≡ []
  sealed-tree up (node k l fs) h = (λ i. push (free-filter (declared up (node k l fs)) (free-declared up (node k l fs) h.bound h.private h.first) i) (claims_in is_owned up k l fs 0 0 fs)) ∙ sealed-fields up k l fs 0 fs h

  sealed-fields : (up : List Ancestor) (k : AstType) (l : Label) (all : Fields) (i : ℕ) (fs : Fields) → Sealed up → claims_in is_owned up k l all 0 i fs ≡ []
  sealed-fields up k l all i done h = refl
  sealed-fields up k l all i (f then fs) h = λ j. sealed-field (above k l all i 0 ∷ up) f (sealed-in k l all i 0 refl up h) j ++ sealed-fields up k l all (suc i) fs h j

  pub sealed-field : (up : List Ancestor) (f : Field) → Sealed up → claims_by is_owned up f ≡ []
  sealed-field up missing h = refl
  sealed-field up (one t) h = sealed-tree up t h
  sealed-field up (many ts) h = sealed-trees up ts h
  sealed-field up (statements ts) h = sealed-trees up ts h

  pub sealed-trees : (up : List Ancestor) (ts : Trees) → Sealed up → claims_all is_owned up ts ≡ []
  sealed-trees up empty h = refl
  sealed-trees up (t before ts) h = λ j. sealed-tree up t h j ++ sealed-trees up ts h j

-- KINDS that stand in no expression, but in functions, arrows and static blocks

abbrev pub is_outer : AstType → Bool
is_outer Program = true
is_outer BlockStatement = true
is_outer BreakStatement = true
is_outer CatchClause = true
is_outer ClassDeclaration = true
is_outer ContinueStatement = true
is_outer DebuggerStatement = true
is_outer DoWhileStatement = true
is_outer EmptyStatement = true
is_outer ExportAllDeclaration = true
is_outer ExportDefaultDeclaration = true
is_outer ExportNamedDeclaration = true
is_outer ExportSpecifier = true
is_outer ExpressionStatement = true
is_outer ForInStatement = true
is_outer ForOfStatement = true
is_outer ForStatement = true
is_outer FunctionBody = true
is_outer FunctionDeclaration = true
is_outer IfStatement = true
is_outer ImportDeclaration = true
is_outer ImportDefaultSpecifier = true
is_outer ImportNamespaceSpecifier = true
is_outer ImportSpecifier = true
is_outer LabeledStatement = true
is_outer ReturnStatement = true
is_outer SwitchCase = true
is_outer SwitchStatement = true
is_outer ThrowStatement = true
is_outer TryStatement = true
is_outer VariableDeclaration = true
is_outer WhileStatement = true
is_outer ArrayPattern = true
is_outer AssignmentPattern = true
is_outer ObjectPattern = true
is_outer PatternProperty = true
is_outer RestElement = true
is_outer VariableDeclarator = true
is_outer _ = false

-- the key of a class's member is the class's
abbrev pub is_member : AstType → Bool
is_member MethodDefinition = true
is_member PropertyDefinition = true
is_member _ = false

abbrev pub stands : AstType → ℕ → Bool → AstType → Bool
stands k i last j = is_outer k || is_boundary k || not (is_outer j)

entries-fit : (k : AstType) → entries_fit stands k 0 (child_entries k) ≡ true
entries-fit Program = refl
entries-fit _ = refl

elements-fit : (k : AstType) (p : ElementsPlace) → elements_of (child_entries k) ≡ Some p → ElementsFit stands k p
elements-fit ArrayExpression p e = elements-are stands ArrayExpression _ p e (record { sort = λ i b. refl; last = λ i b. refl })
elements-fit ArrayPattern p e = elements-are stands ArrayPattern _ p e (record { sort = λ i b. refl; last = λ i b. refl })
elements-fit ArrayTarget p e = elements-are stands ArrayTarget _ p e (record { sort = λ i b. refl; last = λ i b. refl })
elements-fit _ p e = absurd (cc e)

table : TableFits stands
table = record { entries = entries-fit; elements = elements-fit }

pub edges : (s : Sort) (k : AstType) (l : Label) (fs : Fields) → has_form s (node k l fs) ≡ true → EdgesIn stands k 0 fs
edges = edges-inside stands table

-- an expression's kind
outer-edge : (i : ℕ) (last : Bool) (t : Tree) → Edges stands ParenthesizedExpression i last t → is_outer (kind_of t) ≡ false
outer-edge i last (node j l fs) h = at (is_outer j) h.0
  where
    at : (b : Bool) → not b ≡ true → b ≡ false
    at true e = absurd (cc e)
    at false e = refl

pub expression-kind : (t : Tree) → has_form s-Expression t ≡ true → is_outer (kind_of t) ≡ false
expression-kind t h = outer-edge 0 true t (edges-tree stands table ParenthesizedExpression 0 true s-Expression t refl h)

-- IN AN EXPRESSION nothing is declared

record Quiet (k : AstType) (l : Label) (all : Fields) (i m : ℕ) (up : List Ancestor) : Type 0 where
  bound : (x : Text) → bound_names (above k l all i m ∷ up) x ≡ []
  key : is_member k ≡ false → is_class_key (above k l all i m ∷ []) ≡ false

quiet : (k : AstType) (l : Label) (all : Fields) (i m : ℕ) (up : List Ancestor) → is_outer k ≡ false → is_boundary k ≡ false → Quiet k l all i m up
quiet ObjectPattern l all i m up e d = absurd (cc e)
quiet ArrayPattern l all i m up e d = absurd (cc e)
quiet PatternProperty l all i m up e d = absurd (cc e)
quiet AssignmentPattern l all i m up e d = absurd (cc e)
quiet RestElement l all i m up e d = absurd (cc e)
quiet VariableDeclarator l all i m up e d = absurd (cc e)
quiet FunctionDeclaration l all i m up e d = absurd (cc e)
quiet ClassDeclaration l all i m up e d = absurd (cc e)
quiet CatchClause l all i m up e d = absurd (cc e)
quiet ImportSpecifier l all i m up e d = absurd (cc e)
quiet ImportDefaultSpecifier l all i m up e d = absurd (cc e)
quiet ImportNamespaceSpecifier l all i m up e d = absurd (cc e)
quiet FunctionExpression l all i m up e d = absurd (cc d)
quiet ArrowFunctionExpression l all i m up e d = absurd (cc d)
quiet MethodDefinition l all i m up e d = record { bound = λ x. refl; key = λ c. absurd (cc c) }
quiet PropertyDefinition l all i m up e d = record { bound = λ x. refl; key = λ c. absurd (cc c) }
quiet _ l all i m up e d = record { bound = λ x. refl; key = λ c. refl }

pub sealed-boundary : (k : AstType) (l : Label) (all : Fields) (i : ℕ) (up : List Ancestor) → is_outer k ≡ false → is_boundary k ≡ true → Sealed (above k l all i 0 ∷ up)
sealed-boundary ArrowFunctionExpression l all i up e d = record { bound = λ x. free-if (i == 0) (parameter_names 0 x) [] (refl, (refl, tt)) tt; declaration = λ x. tt; private = λ x. free-private (above ArrowFunctionExpression l all i 0) up x (λ c. absurd (cc c)); scoped = (refl, tt); first = refl }
sealed-boundary FunctionExpression l all i up e d = record { bound = λ x. free-if ((i == 1) || false) (parameter_names 0 x) [] (refl, (refl, tt)) tt; declaration = λ x. tt; private = λ x. free-private (above FunctionExpression l all i 0) up x (λ c. absurd (cc c)); scoped = (refl, tt); first = refl }
sealed-boundary StaticBlock l all i up e d = record { bound = λ x. tt; declaration = λ x. tt; private = λ x. free-private (above StaticBlock l all i 0) up x (λ c. absurd (cc c)); scoped = (refl, tt); first = refl }
sealed-boundary FunctionDeclaration l all i up e d = absurd (cc e)
sealed-boundary _ l all i up e d = absurd (cc d)

edge-fields : (k : AstType) (i : ℕ) (last : Bool) (t : Tree) → Edges stands k i last t → EdgesIn stands (kind_of t) 0 (fields_of t)
edge-fields k i last (node j l fs) h = h.1

lasting : (k j : AstType) (i : ℕ) (last : Bool) → stands k i last j ≡ true → is_outer k ≡ false → is_boundary k ≡ false → is_outer j ≡ false
lasting k j i last h e d = at (is_outer k) (is_boundary k) (is_outer j) e d h
  where
    at : (a b c : Bool) → a ≡ false → b ≡ false → (a || b || not c) ≡ true → c ≡ false
    at true b c e d h = absurd (cc e)
    at false true c e d h = absurd (cc d)
    at false false true e d h = absurd (cc h)
    at false false false e d h = refl

edge-kind : (k : AstType) (i : ℕ) (last : Bool) (t : Tree) → Edges stands k i last t → is_outer k ≡ false → is_boundary k ≡ false → is_outer (kind_of t) ≡ false
edge-kind k i last (node j l fs) h e b = lasting k j i last h.0 e b

no-true : (b c : Bool) → (c ≡ false → b ≡ false) → b ≡ true → c ≡ true
no-true b true h e = refl
no-true b false h e = absurd (cc (h refl, e))

-- the names that a node in a field of such a node declares
field-declared : (k : AstType) (l : Label) (all : Fields) (i : ℕ) (up : List Ancestor) (t : Tree) → is_outer k ≡ false → is_boundary k ≡ false → (is_member k ≡ true → FirstOther up) → Free (declared (above k l all i 0 ∷ up) t)
field-declared k l all i up t e d f =
    let q = quiet k l all i 0 up e d in
    free-declared (above k l all i 0 ∷ up) t (λ x. subst (λ (ns : List Name). Free ns) (sym (q.bound x)) tt) (λ x. free-private (above k l all i 0) up x (λ c. f (no-true (is_class_key (above k l all i 0 ∷ [])) (is_member k) q.key c))) refl

-- below a function, an arrow or a static block
pub sealed-below : (up : List Ancestor) (k : AstType) (l : Label) (all : Fields) (i : ℕ) (fs : Fields) → ((j : ℕ) → Sealed (above k l all j 0 ∷ up)) → claims_in is_owned up k l all 0 i fs ≡ []
sealed-below up k l all i done h = refl
sealed-below up k l all i (f then fs) h = λ j. sealed-field (above k l all i 0 ∷ up) f (h i) j ++ sealed-below up k l all (suc i) fs h j

pub by-cases : (C : Type 0) (b : Bool) → (b ≡ true → C) → (b ≡ false → C) → C
by-cases C true f g = f refl
by-cases C false f g = g refl

mutual
  -- a node that is no such kind, and declares nothing by itself
  pub mute : (up : List Ancestor) (t : Tree) → is_outer (kind_of t) ≡ false → (is_member (kind_of t) ≡ true → FirstOther up) → EdgesIn stands (kind_of t) 0 (fields_of t) → Free (declared up t) → claims is_owned up t ≡ []
  mute up (node k l fs) e f h d =
      (λ i. push (free-filter (declared up (node k l fs)) d i) (claims_in is_owned up k l fs 0 0 fs))
      ∙ by-cases (claims_in is_owned up k l fs 0 0 fs ≡ []) (is_boundary k) (λ b. sealed-below up k l fs 0 fs (λ j. sealed-boundary k l fs j up e b)) (λ b. mute-fields up k l fs 0 fs e b f h)

  mute-fields : (up : List Ancestor) (k : AstType) (l : Label) (all : Fields) (i : ℕ) (fs : Fields) → is_outer k ≡ false → is_boundary k ≡ false → (is_member k ≡ true → FirstOther up) → EdgesIn stands k i fs → claims_in is_owned up k l all 0 i fs ≡ []
  mute-fields up k l all i done e b f h = refl
  mute-fields up k l all i (g then fs) e b f h = λ j. mute-field up k l all i (is_last fs) g e b f h.0 j ++ mute-fields up k l all (suc i) fs e b f h.1 j

  mute-field : (up : List Ancestor) (k : AstType) (l : Label) (all : Fields) (i : ℕ) (last : Bool) (g : Field) → is_outer k ≡ false → is_boundary k ≡ false → (is_member k ≡ true → FirstOther up) → EdgesBy stands k i last g → claims_by is_owned (above k l all i 0 ∷ up) g ≡ []
  mute-field up k l all i last missing e b f h = refl
  mute-field up k l all i last (one t) e b f h = mute (above k l all i 0 ∷ up) t (edge-kind k i last t h e b) (λ m. refl) (edge-fields k i last t h) (field-declared k l all i up t e b f)
  mute-field up k l all i last (many ts) e b f h = mute-trees up k l all i ts e b f h
  mute-field up k l all i last (statements ts) e b f h = mute-trees up k l all i ts e b f h

  mute-trees : (up : List Ancestor) (k : AstType) (l : Label) (all : Fields) (i : ℕ) (ts : Trees) → is_outer k ≡ false → is_boundary k ≡ false → (is_member k ≡ true → FirstOther up) → EdgesAll stands k i ts → claims_all is_owned (above k l all i 0 ∷ up) ts ≡ []
  mute-trees up k l all i empty e b f h = refl
  mute-trees up k l all i (t before ts) e b f h = λ j. mute (above k l all i 0 ∷ up) t (edge-kind k i false t h.0 e b) (λ m. refl) (edge-fields k i false t h.0) (field-declared k l all i up t e b f) j ++ mute-trees up k l all i ts e b f h.1 j

-- whatever it stands in, an expression that is no name that is bound there
pub mute-expression : (s : Sort) (up : List Ancestor) (t : Tree) → is_outer (kind_of t) ≡ false → is_member (kind_of t) ≡ false → has_form s t ≡ true → Free (declared up t) → claims is_owned up t ≡ []
mute-expression s up (node k l fs) e m h d = mute up (node k l fs) e (λ c. absurd (cc (c, m))) (edges s k l fs h) d

-- A NODE that has no namespaces owns nothing

-- a key or a method stands in a class
abbrev pub in_classes : AstType → ℕ → Bool → AstType → Bool
in_classes k i last j = is_class k || not (is_member j)

in-entries : (k : AstType) → entries_fit in_classes k 0 (child_entries k) ≡ true
in-entries Program = refl
in-entries _ = refl

in-elements : (k : AstType) (p : ElementsPlace) → elements_of (child_entries k) ≡ Some p → ElementsFit in_classes k p
in-elements ArrayExpression p e = elements-are in_classes ArrayExpression _ p e (record { sort = λ i b. refl; last = λ i b. refl })
in-elements ArrayPattern p e = elements-are in_classes ArrayPattern _ p e (record { sort = λ i b. refl; last = λ i b. refl })
in-elements ArrayTarget p e = elements-are in_classes ArrayTarget _ p e (record { sort = λ i b. refl; last = λ i b. refl })
in-elements _ p e = absurd (cc e)

pub class-edges : (s : Sort) (k : AstType) (l : Label) (fs : Fields) → has_form s (node k l fs) ≡ true → EdgesIn in_classes k 0 fs
class-edges = edges-inside in_classes (record { entries = in-entries; elements = in-elements })

no-member : (k j : AstType) (i : ℕ) (last : Bool) → in_classes k i last j ≡ true → is_class k ≡ false → is_member j ≡ false
no-member k j i last h e = at (is_class k) (is_member j) e h
  where
    at : (a b : Bool) → a ≡ false → (a || not b) ≡ true → b ≡ false
    at true b e h = absurd (cc e)
    at false true e h = absurd (cc h)
    at false false e h = refl

key-member : (k : AstType) (l : Label) (fs : Fields) (i m : ℕ) → is_class_key (ancestor k l fs i m ∷ []) ≡ true → is_member k ≡ true
key-member MethodDefinition l fs i m e = refl
key-member PropertyDefinition l fs i m e = refl
key-member _ l fs i m e = absurd (cc e)

method-free : (up : List Ancestor) (t : Tree) → Still up → is_member (kind_of t) ≡ false → Free (declared up t)
method-free up (node Identifier l fs) h m = free-append (bound_names up (first_text l.texts)) (exported_names up (first_text l.texts)) (h.bound (first_text l.texts)) (free-exported up (first_text l.texts))
method-free up (node StringLiteral l fs) h m = free-exported up (first_text l.texts)
method-free up (node PrivateIdentifier l fs) h m = h.private (first_text l.texts)
method-free up (node MethodDefinition l fs) h m = absurd (cc m)
method-free up (node ExportDefaultDeclaration l fs) h m = (refl, tt)
method-free up (node _ l fs) h m = tt

still-tree : (up : List Ancestor) (t : Tree) → Still up → is_member (kind_of t) ≡ false → claims is_owned up t ≡ []
still-tree up (node k l fs) h m = (λ i. push (free-filter (declared up (node k l fs)) (method-free up (node k l fs) h m) i) (claims_in is_owned up k l fs 0 0 fs)) ∙ sealed-below up k l fs 0 fs (λ j. let s = still-in k l fs j 0 (λ e. refl) up h.bound h.declaration h.scoped (λ e. absurd (cc (key-member k l (face j fs) j 0 e, m))) in record { bound = s.bound; declaration = s.declaration; private = s.private; scoped = s.scoped; first = refl })

module _ (up : List Ancestor) (h : Sealed up) (k : AstType) (l : Label) (all : Fields) (m : ℕ) (scope : is_scope k ≡ false) (class : is_class k ≡ false) where
  still-here : (i : ℕ) → Still (above k l all i m ∷ up)
  still-here i = still-in k l all i m (λ e. absurd (cc (scope, e))) up h.bound h.declaration h.scoped (λ e. h.first)

  still-trees : (i : ℕ) (ts : Trees) → EdgesAll in_classes k i ts → claims_all is_owned (above k l all i m ∷ up) ts ≡ []
  still-trees i empty e = refl
  still-trees i (t before ts) e = λ j. still-tree (above k l all i m ∷ up) t (still-here i) (member-of i false t e.0) j ++ still-trees i ts e.1 j
    where
      member-of : (i : ℕ) (last : Bool) (t : Tree) → Edges in_classes k i last t → is_member (kind_of t) ≡ false
      member-of i last (node j l fs) e = no-member k j i last e.0 class

  pub owns-nothing : (i : ℕ) (fs : Fields) → EdgesIn in_classes k i fs → claims_in is_owned up k l all m i fs ≡ []
  owns-nothing i done e = refl
  owns-nothing i (f then fs) e = λ j. at i (is_last fs) f e.0 j ++ owns-nothing (suc i) fs e.1 j
    where
      member-of : (i : ℕ) (last : Bool) (t : Tree) → Edges in_classes k i last t → is_member (kind_of t) ≡ false
      member-of i last (node j l fs) e = no-member k j i last e.0 class

      at : (i : ℕ) (last : Bool) (f : Field) → EdgesBy in_classes k i last f → claims_by is_owned (above k l all i m ∷ up) f ≡ []
      at i last missing e = refl
      at i last (one t) e = still-tree (above k l all i m ∷ up) t (still-here i) (member-of i last t e)
      at i last (many ts) e = still-trees i ts e
      at i last (statements ts) e = still-trees i ts e
