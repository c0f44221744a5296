-- What a statement that is no declaration declares at the top of a module and in the block of a `try` there: by `var`, and so the same names in the module.
use Rattle.std.proofs.Common.{◌≡◌, ◌==◌, ◌≤◌, ◌<◌, ◌+◌, ℕ, suc, refl, sym, ap, subst, ◌∙◌, List, [], ◌∷◌, ◌++◌, filter, map, arith}
use Rattle.std.specs.Prelude.{Bool, true, false, not, ◌&&◌, ◌||◌, Some, bytes_eq, codes, if◌then◌else◌}
use Rattle.std.proofs.lemmas.List.Elements.{filter-append}
use Rattle.es_tree.specs.Ancestors.{Ancestor, ancestor, is_boundary, is_module, is_module_top, is_scope, leads_by, scopes, stands_in}
use Rattle.es_tree.specs.Attributes.{child_entries}
use Rattle.es_tree.specs.CoreStaticRules.{is_lexical}
use Rattle.es_tree.specs.DeclaredNames.{Name, bound_names, catch_names, constructor_names, declaration_names, declared, exported_names, exports_of, function_names, is_at_top, is_class_key, lexical_names, name, names_in_scope, parameter_names, private_names, var_names}
use Rattle.es_tree.specs.HasForm.{ElementsPlace, elements_of, has_form, is_of_sort, same_type}
use Rattle.es_tree.specs.Names.{first_text}
use Rattle.es_tree.specs.StaticRules.{is_declaration, is_lone_body, is_module_item}
use Rattle.es_tree.specs.Tree.{Tree, node, Label, Fields, done, ◌then◌, Field, missing, one, many, statements, Trees, empty, ◌before◌, kind_of, label_of, fields_of, tree_size}
use Rattle.es_tree.specs.Words.{Text}
use Rattle.es_tree.specs.declared.ast_type.AstType.{AstType}
use Rattle.es_tree.specs.declared.ast_type.AstType.TheVariants.{ArrayExpression, ArrayPattern, ArrayTarget, BlockStatement, CatchClause, ClassDeclaration, ExportAllDeclaration, ExportDefaultDeclaration, ExportNamedDeclaration, FunctionBody, FunctionDeclaration, Identifier, ImportDeclaration, ImportDefaultSpecifier, ImportNamespaceSpecifier, ImportSpecifier, MethodDefinition, PrivateIdentifier, Program, PropertyDefinition, StaticBlock, StringLiteral, SwitchCase, VariableDeclaration, VariableDeclarator}
use Rattle.es_tree.specs.declared.place.Namespace.TheVariants.{Scope}
use Rattle.es_tree.specs.declared.table.Sort.{Sort}
use Rattle.es_tree.specs.declared.table.Sort.TheVariants.{Statement as s-Statement}
use Rattle.es_tree.proofs.NodeForm.{node_form}
use Rattle.es_semantic.proofs.FormEdges.{EdgesAll, EdgesBy, EdgesIn, ElementsFit, edges-inside, elements-are, entries_fit, is_last}
use Rattle.es_resolution.proofs.Basics.{bytes_eq-self}
use Rattle.es_steps.specs.Nodes.{made}
use Rattle.es_valid_steps.specs.PlaceRules.{Keeps, KeepsAll, KeepsBy, KeepsHere, KeepsIn}
use Rattle.es_valid_names.proofs.Claims.{above, claims, claims_all, claims_by, claims_in, is_owned, push}
use Rattle.es_valid_names.proofs.Mute.{FirstOther, beyond_catch, beyond_class, beyond_declarator, beyond_function, beyond_parameter, beyond_part, by-cases, free-constructor, free-exported, free-exports, free-filter, free-private, is_imported, is_member, is_parameter, is_part}
use Rattle.es_valid_names.proofs.Numbers.{Same, pick, same-flags, same-in}
use Rattle.es_valid_names.proofs.Owners.{only, only-other}
use Rattle.es_valid_names.proofs.ProgramNames.{program_list}
use Rattle.es_valid_names.proofs.Visited.{inner-edges, tree-groups}
use Rattle.es_valid_using.proofs.UsingNamesBlocks.{made_here}
use Rattle.es_valid_using.proofs.UsingNamesMade.{in_made, statement-member}
use Rattle.es_valid_rests.proofs.RestNamesAround.{Fit, claims-by-fit, innermost, looked_at, vars-owned}
use Rattle.es_valid_rests.proofs.RestNamesAround.Parent.{same_parent}
use Rattle.es_valid_rests.proofs.RestNamesParts.{Part, part-self, same-parts}
use Rattle.es_using_modules.proofs.TopMoves.{is_plain}

-- WHERE DECLARATIONS STAND

-- what stands in functions, switches and imports alone
abbrev is_held : AstType → Bool
is_held FunctionBody = true
is_held SwitchCase = true
is_held ImportSpecifier = true
is_held ImportDefaultSpecifier = true
is_held ImportNamespaceSpecifier = true
is_held _ = false

abbrev is_declaring : AstType → Bool
is_declaring VariableDeclaration = true
is_declaring FunctionDeclaration = true
is_declaring ClassDeclaration = true
is_declaring _ = false

abbrev holds : AstType → Bool
holds k = is_scope k || is_held k || is_module_item k

-- the body of an `if`, a loop or a label
abbrev is_lone : AstType → ℕ → Bool
is_lone k i = is_lone_body (ancestor k (made [] []) done i 0 ∷ [])

abbrev placed : AstType → ℕ → Bool → AstType → Bool
placed k i last j = if is_held j then holds k else not (is_declaring j) || holds k || is_lone k i

entries-fit : (k : AstType) → entries_fit placed k 0 (child_entries k) ≡ true
entries-fit Program = refl
entries-fit _ = refl

elements-fit : (k : AstType) (p : ElementsPlace) → elements_of (child_entries k) ≡ Some p → ElementsFit placed k p
elements-fit ArrayExpression p e = elements-are placed ArrayExpression _ p e (record { sort = λ i b. refl; last = λ i b. refl })
elements-fit ArrayPattern p e = elements-are placed ArrayPattern _ p e (record { sort = λ i b. refl; last = λ i b. refl })
elements-fit ArrayTarget p e = elements-are placed ArrayTarget _ p e (record { sort = λ i b. refl; last = λ i b. refl })
elements-fit _ p e = absurd (let no = e in cc no)

placed-edges : (s : Sort) (k : AstType) (l : Label) (fs : Fields) → has_form s (node k l fs) ≡ true → EdgesIn placed k 0 fs
placed-edges = edges-inside placed (record { entries = entries-fit; elements = elements-fit })

-- NODES that declare nothing lexically where they stand

record Calm (k : AstType) (l : Label) : Type 0 where
  declares : is_declaration k l ≡ false
  item : is_module_item k ≡ false
  held : is_held k ≡ false

record Facts (k : AstType) (l : Label) : Type 0 where
  functions : same_type k FunctionDeclaration ≡ false
  class : same_type k ClassDeclaration ≡ false
  imported : (i : ℕ) → is_imported (ancestor k l done i 0) ≡ false
  word : same_type k VariableDeclaration ≡ true → is_lexical (first_text l.texts) ≡ false
  program : is_scope k ≡ false → same_type k Program ≡ false
  clause : is_scope k ≡ false → same_type k CatchClause ≡ false

facts : (k : AstType) (l : Label) → Calm k l → Facts k l
facts VariableDeclaration l c = record { functions = refl; class = refl; imported = λ i. refl; word = λ e. c.declares; program = λ e. refl; clause = λ e. refl }
facts FunctionDeclaration l c = absurd (let no : true ≡ false = c.declares in cc no)
facts ClassDeclaration l c = absurd (let no : true ≡ false = c.declares in cc no)
facts ImportSpecifier l c = absurd (let no : true ≡ false = c.held in cc no)
facts ImportDefaultSpecifier l c = absurd (let no : true ≡ false = c.held in cc no)
facts ImportNamespaceSpecifier l c = absurd (let no : true ≡ false = c.held in cc no)
facts Program l c = record { functions = refl; class = refl; imported = λ i. refl; word = λ e. absurd (let no : false ≡ true = e in cc no); program = λ e. absurd (let no : true ≡ false = e in cc no); clause = λ e. refl }
facts CatchClause l c = record { functions = refl; class = refl; imported = λ i. refl; word = λ e. absurd (let no : false ≡ true = e in cc no); program = λ e. refl; clause = λ e. absurd (let no : true ≡ false = e in cc no) }
facts _ l c = record { functions = refl; class = refl; imported = λ i. refl; word = λ e. absurd (let no : false ≡ true = e in cc no); program = λ e. refl; clause = λ e. refl }

-- NAMES that are owned

abbrev own : List Name → List Name
own ns = filter is_owned ns

own-if : (b : Bool) (xs ys zs ws : List Name) → (b ≡ true → own xs ≡ own ys) → own zs ≡ own ws → own (if b then xs else zs) ≡ own (if b then ys else ws)
own-if true xs ys zs ws h k = h refl
own-if false xs ys zs ws h k = k

own-both : (xs ys zs ws : List Name) → own xs ≡ own ys → own zs ≡ own ws → own (xs ++ zs) ≡ own (ys ++ ws)
own-both xs ys zs ws h k = filter-append is_owned xs zs ∙ (λ i. h i ++ k i) ∙ sym (filter-append is_owned ys ws)

-- TWO PLACES of which the second has a scope more, which isn't looked at

record Kin (up vp : List Ancestor) : Type 0 where
  module_around : is_module vp ≡ is_module up
  clause_up : stands_in CatchClause 1 up ≡ false
  clause_vp : stands_in CatchClause 1 vp ≡ false
  hoisted : looked_at (scopes vp) ≡ looked_at (scopes up)
  bound : (x : Text) → own (bound_names vp x) ≡ own (bound_names up x)
  declares : (x : Text) → own (declaration_names vp x) ≡ own (declaration_names up x)
  private : (x : Text) → own (private_names vp x) ≡ own (private_names up x)

module _ (up vp : List Ancestor) (h : Kin up vp) where
  vars-same : (x : Text) → own (var_names vp x) ≡ own (var_names up x)
  vars-same x = vars-owned (scopes vp) x ∙ ap (λ ns. map (λ n. name Scope n x false) ns) h.hoisted ∙ sym (vars-owned (scopes up) x)

  exports-same : (x : Text) → own (exports_of vp x) ≡ own (exports_of up x)
  exports-same x = free-filter (exports_of vp x) (free-exports vp x) ∙ sym (free-filter (exports_of up x) (free-exports up x))

  -- ONE ANCESTOR MORE, which declares nothing lexically
  module _ (k : AstType) (l : Label) (fs : Fields) (i : ℕ) (calm : Calm k l) (key : is_member k ≡ true → FirstOther up × FirstOther vp) where
    abbrev a : Ancestor
    a = above k l fs i 0

    bound-same : (x : Text) → own (bound_names (a ∷ vp) x) ≡ own (bound_names (a ∷ up) x)
    bound-same x =
        let f = facts k l calm in
        own-if (is_part a) (bound_names vp x) (bound_names up x) (beyond_part a vp x) (beyond_part a up x) (λ e. h.bound x)
        (own-if (leads_by VariableDeclarator 0 a) (declaration_names vp x) (declaration_names up x) (beyond_declarator a vp x) (beyond_declarator a up x) (λ e. h.declares x)
        (own-if (leads_by FunctionDeclaration 0 a) (function_names vp x ++ exports_of vp x) (function_names up x ++ exports_of up x) (beyond_function a vp x) (beyond_function a up x) (λ e. absurd (let no : false ≡ true = (λ j. sym f.functions j && i == 0) ∙ e in cc no))
        (own-if (is_parameter a) (parameter_names 0 x) (parameter_names 0 x) (beyond_parameter a vp x) (beyond_parameter a up x) (λ e. refl)
        (own-if (leads_by ClassDeclaration 0 a) (lexical_names vp x ++ exports_of vp x) (lexical_names up x ++ exports_of up x) (beyond_class a vp x) (beyond_class a up x) (λ e. absurd (let no : false ≡ true = (λ j. sym f.class j && i == 0) ∙ e in cc no))
        (own-if (leads_by CatchClause 0 a) (catch_names a x) (catch_names a x) (beyond_catch a vp x) (beyond_catch a up x) (λ e. refl)
        (own-if (is_imported a) (lexical_names vp x) (lexical_names up x) [] [] (λ e. absurd (let no : false ≡ true = sym (f.imported i) ∙ e in cc no)) refl))))))

    declares-same : (x : Text) → own (declaration_names (a ∷ vp) x) ≡ own (declaration_names (a ∷ up) x)
    declares-same x = own-if (same_type k VariableDeclaration) ((if is_lexical (first_text l.texts) then lexical_names vp x else var_names vp x) ++ exports_of vp x) ((if is_lexical (first_text l.texts) then lexical_names up x else var_names up x) ++ exports_of up x) [] [] (λ e. by-var (is_lexical (first_text l.texts)) ((facts k l calm).word e)) refl
      where
        by-var : (b : Bool) → b ≡ false → own ((if b then lexical_names vp x else var_names vp x) ++ exports_of vp x) ≡ own ((if b then lexical_names up x else var_names up x) ++ exports_of up x)
        by-var true e = absurd (let no : true ≡ false = e in cc no)
        by-var false e = own-both (var_names vp x) (var_names up x) (exports_of vp x) (exports_of up x) (vars-same x) (exports-same x)

    key-member : is_class_key (a ∷ []) ≡ true → is_member k ≡ true
    key-member e = at k e
      where
        at : (k : AstType) → is_class_key (above k l fs i 0 ∷ []) ≡ true → is_member k ≡ true
        at MethodDefinition e = refl
        at PropertyDefinition e = refl
        at _ e = absurd (let no : false ≡ true = e in cc no)

    private-same : (x : Text) → own (private_names (a ∷ vp) x) ≡ own (private_names (a ∷ up) x)
    private-same x = free-filter (private_names (a ∷ vp) x) (free-private a vp x (λ e. (key (key-member e)).1)) ∙ sym (free-filter (private_names (a ∷ up) x) (free-private a up x (λ e. (key (key-member e)).0)))

    module-same : is_module (a ∷ vp) ≡ is_module (a ∷ up)
    module-same = λ j. (same_type k Program && bytes_eq (first_text l.texts) (codes "module")) || h.module_around j

    -- the scopes from here
    abbrev with_scope : Bool → Bool → List ℕ → List ℕ
    with_scope m b ns = if m then (if b then 0 ∷ [] else 0 ∷ ns) else ns

    scopes-are : (us : List Ancestor) → stands_in CatchClause 1 us ≡ false → scopes (a ∷ us) ≡ with_scope (is_scope k && not (same_type k BlockStatement && false)) (is_boundary k) (scopes us)
    scopes-are us e = λ j. with_scope (is_scope k && not (same_type k BlockStatement && e j)) (is_boundary k) (scopes us)

    never : (b : Bool) → not (b && false) ≡ true
    never true = refl
    never false = refl

    made-scope : (us : List Ancestor) → stands_in CatchClause 1 us ≡ false → scopes (a ∷ us) ≡ with_scope (is_scope k) (is_boundary k) (scopes us)
    made-scope us e = scopes-are us e ∙ (λ j. with_scope (both (is_scope k) j) (is_boundary k) (scopes us))
      where
        both : (b : Bool) → (b && not (same_type k BlockStatement && false)) ≡ b
        both true = never (same_type k BlockStatement)
        both false = refl

    hoisted-same : (m b : Bool) (ns ms : List ℕ) → looked_at ms ≡ looked_at ns → looked_at (with_scope m b ms) ≡ looked_at (with_scope m b ns)
    hoisted-same true true ns ms e = refl
    hoisted-same true false ns ms e = e
    hoisted-same false b ns ms e = e

    hoisted-in : looked_at (scopes (a ∷ vp)) ≡ looked_at (scopes (a ∷ up))
    hoisted-in = ap (λ ns. looked_at ns) (made-scope vp h.clause_vp) ∙ hoisted-same (is_scope k) (is_boundary k) (scopes up) (scopes vp) h.hoisted ∙ sym (ap (λ ns. looked_at ns) (made-scope up h.clause_up))

    -- what makes no scope
    kin-in : is_scope k ≡ false → Kin (a ∷ up) (a ∷ vp)
    kin-in e =
        let c : same_type k CatchClause ≡ false = (facts k l calm).clause e in
        record { module_around = module-same; clause_up = λ j. c j && i == 1; clause_vp = λ j. c j && i == 1; hoisted = hoisted-in; bound = bound-same; declares = declares-same; private = private-same }

    -- and what does: there both are alike
    equal-part : {X : Type 0} (xs ys : List X) → ys ≡ xs → Part false xs ys
    equal-part xs ys e = subst (λ (zs : List _). Part false xs zs) (sym e) (part-self xs)

    none-first : (us : List Ancestor) → stands_in CatchClause 1 us ≡ false → is_scope k ≡ true → innermost (scopes (a ∷ us)) ≡ []
    none-first us c e = ap (λ ns. innermost ns) (made-scope us c) ∙ (λ j. innermost (with_scope (e j) (is_boundary k) (scopes us))) ∙ at (is_boundary k)
      where
        at : (b : Bool) → innermost (if b then 0 ∷ [] else 0 ∷ scopes us) ≡ []
        at true = refl
        at false = refl

    fit-in : is_scope k ≡ true → Fit false (a ∷ up) (a ∷ vp)
    fit-in e = record {
      module_around = module-same;
      top = λ j. leads_by FunctionBody 1 a || leads_by StaticBlock 0 a || (leads_by Program 1 a && not (module-same j));
      clause = refl;
      hoisted = equal-part (looked_at (scopes (a ∷ up))) (looked_at (scopes (a ∷ vp))) hoisted-in;
      first = equal-part (innermost (scopes (a ∷ up))) (innermost (scopes (a ∷ vp))) (none-first vp h.clause_vp e ∙ sym (none-first up h.clause_up e));
      bound = λ x. equal-part (own (bound_names (a ∷ up) x)) (own (bound_names (a ∷ vp) x)) (bound-same x);
      declares = λ x. equal-part (own (declaration_names (a ∷ up) x)) (own (declaration_names (a ∷ vp) x)) (declares-same x);
      private = λ x. equal-part (own (private_names (a ∷ up) x)) (own (private_names (a ∷ vp) x)) (private-same x);
    }

  -- WHAT A NODE DECLARES
  declared-same : (t : Tree) → (is_member (kind_of t) ≡ true → FirstOther up × FirstOther vp) → own (declared vp t) ≡ own (declared up t)
  declared-same (node Identifier l fs) key = own-both (bound_names vp (first_text l.texts)) (bound_names up (first_text l.texts)) (exported_names vp (first_text l.texts)) (exported_names up (first_text l.texts)) (h.bound (first_text l.texts)) (free-filter (exported_names vp (first_text l.texts)) (free-exported vp (first_text l.texts)) ∙ sym (free-filter (exported_names up (first_text l.texts)) (free-exported up (first_text l.texts))))
  declared-same (node StringLiteral l fs) key = free-filter (exported_names vp (first_text l.texts)) (free-exported vp (first_text l.texts)) ∙ sym (free-filter (exported_names up (first_text l.texts)) (free-exported up (first_text l.texts)))
  declared-same (node PrivateIdentifier l fs) key = h.private (first_text l.texts)
  declared-same (node MethodDefinition l fs) key = free-filter (constructor_names vp (first_text l.texts)) (free-constructor vp (first_text l.texts) (key refl).1) ∙ sym (free-filter (constructor_names up (first_text l.texts)) (free-constructor up (first_text l.texts) (key refl).0))
  declared-same (node _ l fs) key = refl

-- A NODE in another that makes no scope

record Apart (k : AstType) (i : ℕ) (j : AstType) : Type 0 where
  held : is_held j ≡ false
  lone : is_declaring j ≡ true → is_lone k i ≡ true

by-edge : (k : AstType) (l : Label) (i : ℕ) (last : Bool) (j : AstType) → Calm k l → is_scope k ≡ false → placed k i last j ≡ true → Apart k i j
by-edge k l i last j c e p = at (is_held j) refl p
  where
    none : holds k ≡ false
    none = λ x. e x || c.held x || c.item x

    says : (b v : Bool) → (not b || false || v) ≡ true → b ≡ true → v ≡ true
    says true v q d = q
    says false v q d = absurd (let no : false ≡ true = d in cc no)

    at : (b : Bool) → is_held j ≡ b → (if b then holds k else not (is_declaring j) || holds k || is_lone k i) ≡ true → Apart k i j
    at true d q = absurd (let no : false ≡ true = sym none ∙ q in cc no)
    at false d q = record { held = d; lone = says (is_declaring j) (is_lone k i) ((λ x. not (is_declaring j) || sym none x || is_lone k i) ∙ q) }

declaring : (j : AstType) (m : Label) → is_declaration j m ≡ true → is_declaring j ≡ true
declaring VariableDeclaration m e = refl
declaring FunctionDeclaration m e = refl
declaring ClassDeclaration m e = refl
declaring _ m e = absurd (let no : false ≡ true = e in cc no)

calm-child : (k : AstType) (l : Label) (all : Fields) (i : ℕ) (last : Bool) (j : AstType) (m : Label) (gs : Fields) (us : List Ancestor) → Calm k l → is_scope k ≡ false → placed k i last j ≡ true → KeepsHere (ancestor k l all i 0 ∷ us) (node j m gs) → Calm j m
calm-child k l all i last j m gs us c e p h =
    let apart = by-edge k l i last j c e p in
    let inside : is_module_top (ancestor k l all i 0 ∷ us) ≡ false = λ x. ((facts k l c).program e x && i == 1) && is_module (ancestor k l all i 0 ∷ us) in
    record {
      declares = at (is_declaration j m) refl h.declaration apart.lone;
      item = out (is_module_item j) ((λ x. is_module_item j && not (sym inside x)) ∙ h.item);
      held = apart.held;
    }
  where
    at : (b : Bool) → is_declaration j m ≡ b → (b && is_lone k i) ≡ false → (is_declaring j ≡ true → is_lone k i ≡ true) → b ≡ false
    at true d q f = absurd (let no : false ≡ true = sym q ∙ f (declaring j m d) in cc no)
    at false d q f = refl

    out : (b : Bool) → (b && true) ≡ false → b ≡ false
    out true q = absurd (let no : true ≡ false = q in cc no)
    out false q = refl

mutual
  kin-tree : (up vp us : List Ancestor) → Kin up vp → (t : Tree) → Calm (kind_of t) (label_of t) → (is_member (kind_of t) ≡ true → FirstOther up × FirstOther vp) → EdgesIn placed (kind_of t) 0 (fields_of t) → Keeps us t → claims is_owned vp t ≡ claims is_owned up t
  kin-tree up vp us h (node k l fs) c key e r = λ x. push (declared-same up vp h (node k l fs) key x) (kin-fields up vp us h k l fs c key 0 fs e r.1 x)

  kin-fields : (up vp us : List Ancestor) → Kin up vp → (k : AstType) (l : Label) (all : Fields) → Calm k l → (is_member k ≡ true → FirstOther up × FirstOther vp) → (i : ℕ) (fs : Fields) → EdgesIn placed k i fs → KeepsIn us k l all i fs → claims_in is_owned vp k l all 0 i fs ≡ claims_in is_owned up k l all 0 i fs
  kin-fields up vp us h k l all c key i done e r = refl
  kin-fields up vp us h k l all c key i (f then fs) e r =
      let here = by-cases (claims_by is_owned (above k l all i 0 ∷ vp) f ≡ claims_by is_owned (above k l all i 0 ∷ up) f) (is_scope k)
      (λ d. same-parts (claims-by-fit (above k l all i 0 ∷ up) (above k l all i 0 ∷ vp) (fit-in up vp h k l all i c key d) (same_parent refl) f))
      (λ d. kin-field (above k l all i 0 ∷ up) (above k l all i 0 ∷ vp) us (kin-in up vp h k l all i c key d) (refl, refl) k l all c d i (is_last fs) f e.0 r.0) in
      λ x. here x ++ kin-fields up vp us h k l all c key (suc i) fs e.1 r.1 x

  -- what stands in a field of a node that makes no scope
  kin-field : (up vp us : List Ancestor) → Kin up vp → FirstOther up × FirstOther vp → (k : AstType) (l : Label) (all : Fields) → Calm k l → is_scope k ≡ false → (i : ℕ) (last : Bool) (f : Field) → EdgesBy placed k i last f → KeepsBy (ancestor k l all i 0 ∷ us) f → claims_by is_owned vp f ≡ claims_by is_owned up f
  kin-field up vp us h o k l all c d i last missing e r = refl
  kin-field up vp us h o k l all c d i last (one (node j m gs)) e r = kin-tree up vp (ancestor k l all i 0 ∷ us) h (node j m gs) (calm-child k l all i last j m gs us c d e.0 r.0) (λ q. o) e.1 r
  kin-field up vp us h o k l all c d i last (many ts) e r = kin-trees up vp us h o k l all c d i ts e r
  kin-field up vp us h o k l all c d i last (statements ts) e r = kin-trees up vp us h o k l all c d i ts e r

  kin-trees : (up vp us : List Ancestor) → Kin up vp → FirstOther up × FirstOther vp → (k : AstType) (l : Label) (all : Fields) → Calm k l → is_scope k ≡ false → (i : ℕ) (ts : Trees) → EdgesAll placed k i ts → KeepsAll (ancestor k l all i 0 ∷ us) ts → claims_all is_owned vp ts ≡ claims_all is_owned up ts
  kin-trees up vp us h o k l all c d i empty e r = refl
  kin-trees up vp us h o k l all c d i (node j m gs before ts) e r =
      λ x. kin-tree up vp (ancestor k l all i 0 ∷ us) h (node j m gs) (calm-child k l all i false j m gs us c d e.0.0 r.0.0) (λ q. o) e.0.1 r.0 x ++ kin-trees up vp us h o k l all c d i ts e.1 r.1 x

-- A STATEMENT at the top of a module, and in the block

calm-statement : (t : Tree) → has_form s-Statement t ≡ true → is_plain (kind_of t) ≡ true → Calm (kind_of t) (label_of t)
calm-statement (node FunctionBody l fs) f e = absurd (let no : false ≡ true = (node_form s-Statement FunctionBody l fs f).sort in cc no)
calm-statement (node SwitchCase l fs) f e = absurd (let no : false ≡ true = (node_form s-Statement SwitchCase l fs f).sort in cc no)
calm-statement (node ImportSpecifier l fs) f e = absurd (let no : false ≡ true = (node_form s-Statement ImportSpecifier l fs f).sort in cc no)
calm-statement (node ImportDefaultSpecifier l fs) f e = absurd (let no : false ≡ true = (node_form s-Statement ImportDefaultSpecifier l fs f).sort in cc no)
calm-statement (node ImportNamespaceSpecifier l fs) f e = absurd (let no : false ≡ true = (node_form s-Statement ImportNamespaceSpecifier l fs f).sort in cc no)
calm-statement (node VariableDeclaration l fs) f e = absurd (let no : false ≡ true = e in cc no)
calm-statement (node FunctionDeclaration l fs) f e = absurd (let no : false ≡ true = e in cc no)
calm-statement (node ClassDeclaration l fs) f e = absurd (let no : false ≡ true = e in cc no)
calm-statement (node ImportDeclaration l fs) f e = absurd (let no : false ≡ true = e in cc no)
calm-statement (node ExportAllDeclaration l fs) f e = absurd (let no : false ≡ true = e in cc no)
calm-statement (node ExportNamedDeclaration l fs) f e = absurd (let no : false ≡ true = e in cc no)
calm-statement (node ExportDefaultDeclaration l fs) f e = absurd (let no : false ≡ true = e in cc no)
calm-statement (node _ l fs) f e = record { declares = refl; item = refl; held = refl }

module _ (l : Label) where
  kin-block : Kin (program_list l) (in_made (program_list l))
  kin-block = record { module_around = refl; clause_up = refl; clause_vp = refl; hoisted = refl; bound = λ x. refl; declares = λ x. refl; private = λ x. refl }

  pub plain-in-block : (us : List Ancestor) (t : Tree) → has_form s-Statement t ≡ true → is_plain (kind_of t) ≡ true → Keeps us t → claims is_owned (in_made (program_list l)) t ≡ claims is_owned (program_list l) t
  plain-in-block us (node k m fs) f e r = kin-tree (program_list l) (in_made (program_list l)) us kin-block (node k m fs) (calm-statement (node k m fs) f e) (λ d. absurd (statement-member (node k m fs) f d)) (placed-edges s-Statement k m fs f) r

  -- AND WHERE THE BLOCK is looked at: as at the top of a module

  module _ (in_module : first_text l.texts ≡ codes "module") where
    abbrev raw : List Ancestor
    raw = ancestor Program l done 1 1 ∷ []

    same-top : Same (only 1) raw (program_list l)
    same-top = same-in (only 1) (ancestor Program l done 1 1) [] [] (same-flags (only 1) []) (λ e. refl) (λ e. refl)

    same-block : Same (only 1) raw made_here
    same-block =
        let h = same-top in
        record {
          bound = λ x. refl;
          declaration = λ x. refl;
          function = λ x. (λ j. pick (only 1) (names_in_scope (scopes raw) x (not (at-top j)))) ∙ h.first x true;
          first = h.first;
          vars = h.vars;
          private = λ x. refl;
          constructor_name = h.constructor_name;
          next_private = h.next_private;
        }
      where
        at-top : is_at_top raw ≡ false
        at-top = (λ j. not (bytes_eq (in_module j) (codes "module") || false)) ∙ (λ j. not (bytes_eq-self (codes "module") j || false))

    pub in-block-itself : (t : Tree) → has_form s-Statement t ≡ true → claims is_owned made_here t ≡ claims is_owned (program_list l) t
    in-block-itself (node k m fs) f =
        let e = inner-edges s-Statement k m fs f in
        let p = no-program-here k (node_form s-Statement k m fs f).sort in
        let zero_for : (j : ℕ) → 2 ≤ j → j < 2 + tree_size (node k m fs) → only 1 j ≡ 0 = λ j a b. only-other 1 j (λ d. absurd (omega arith)) in
        sym (tree-groups (only 1) raw made_here 2 (node k m fs) same-block refl p e zero_for) ∙ tree-groups (only 1) raw (program_list l) 2 (node k m fs) same-top refl p e zero_for
      where
        no-program-here : (k : AstType) → is_of_sort s-Statement k ≡ true → same_type k Program ≡ false
        no-program-here Program d = absurd (let no : false ≡ true = d in cc no)
        no-program-here _ d = refl
