-- What is declared below a body's statements are no parameters of the function that is looked at.
use Rattle.std.proofs.Common.{◌≡◌, ℕ, suc, refl, List, [], ◌∷◌, ◌++◌, cond, filter, map}
use Rattle.std.specs.Prelude.{Bool, true, false, not, ◌&&◌, ◌||◌, if◌then◌else◌}
use Rattle.es_tree.specs.Ancestors.{Ancestor, leads_by, scopes, stands_in}
use Rattle.es_tree.specs.CoreStaticRules.{is_lexical}
use Rattle.es_tree.specs.DeclaredNames.{Name, bound_names, catch_names, constructor_names, declaration_names, declared, export_name, exported_names, exports_of, function_names, is_at_top, lexical_names, name, names_in_scope, parameter_names, private_names, var_names}
use Rattle.es_tree.specs.HasForm.{same_type}
use Rattle.es_tree.specs.Names.{first_text}
use Rattle.es_tree.specs.Tree.{Tree, node, Label, Fields, done, ◌then◌, Field, missing, one, many, statements, Trees, empty, ◌before◌}
use Rattle.es_tree.specs.Words.{Text}
use Rattle.es_tree.specs.declared.ast_type.AstType.{AstType}
use Rattle.es_tree.specs.declared.ast_type.AstType.TheVariants.{CatchClause, ClassDeclaration, ExportAllDeclaration, ExportDefaultDeclaration, ExportNamedDeclaration, ExportSpecifier, FunctionDeclaration, Identifier, MethodDefinition, PrivateIdentifier, StringLiteral, VariableDeclaration, VariableDeclarator}
use Rattle.es_tree.specs.declared.place.Namespace.{Namespace}
use Rattle.es_tree.specs.declared.place.Namespace.TheVariants.{Parameters, Scope}
use Rattle.es_valid_names.proofs.Claims.{above, claims, claims_all, claims_by, claims_in, is_owned, push}
use Rattle.es_valid_names.proofs.Mute.{Free, FirstOther, beyond_catch, beyond_class, beyond_declarator, beyond_function, beyond_parameter, beyond_part, free-constructor, free-private, is_imported, is_parameter, is_part}

-- a name that is looked at, and no parameter
abbrev pub is_parameters : Namespace → Bool
is_parameters Parameters = true
is_parameters _ = false

abbrev pub Ordinary : Name → Type 0
Ordinary n = (is_owned n && is_parameters n.namespace) ≡ false

abbrev pub AllOrdinary : List Name → Type 0
AllOrdinary [] = Unit {0}
AllOrdinary (n ∷ ns) = Ordinary n × AllOrdinary ns

abbrev pub EachOrdinary : List (List Name) → Type 0
EachOrdinary [] = Unit {0}
EachOrdinary (g ∷ gs) = AllOrdinary g × EachOrdinary gs

never-both : (b : Bool) → (b && false) ≡ false
never-both true = refl
never-both false = refl

all-append : (xs ys : List Name) → AllOrdinary xs → AllOrdinary ys → AllOrdinary (xs ++ ys)
all-append [] ys h k = k
all-append (x ∷ xs) ys h k = (h.0, all-append xs ys h.1 k)

pub each-append : (xs ys : List (List Name)) → EachOrdinary xs → EachOrdinary ys → EachOrdinary (xs ++ ys)
each-append [] ys h k = k
each-append (x ∷ xs) ys h k = (h.0, each-append xs ys h.1 k)

all-if : (b : Bool) (xs ys : List Name) → AllOrdinary xs → AllOrdinary ys → AllOrdinary (if b then xs else ys)
all-if true xs ys h k = h
all-if false xs ys h k = k

all-either : (b : Bool) (xs ys : List Name) → AllOrdinary xs → AllOrdinary ys → AllOrdinary (cond b xs ys)
all-either true xs ys h k = h
all-either false xs ys h k = k

all-filter : (ns : List Name) → AllOrdinary ns → AllOrdinary (filter is_owned ns)
all-filter [] h = tt
all-filter (n ∷ ns) h = all-either (is_owned n) (n ∷ filter is_owned ns) (filter is_owned ns) (h.0, all-filter ns h.1) (all-filter ns h.1)

all-free : (ns : List Name) → Free ns → AllOrdinary ns
all-free [] h = tt
all-free (n ∷ ns) h = ((λ i. h.0 i && is_parameters n.namespace), all-free ns h.1)

each-push : (g : List Name) (gs : List (List Name)) → AllOrdinary g → EachOrdinary gs → EachOrdinary (push g gs)
each-push [] gs h k = k
each-push (n ∷ g) gs h k = (h, k)

-- NAMES under one text

in-scope : (ns : List ℕ) (x : Text) (b : Bool) → AllOrdinary (names_in_scope ns x b)
in-scope [] x b = tt
in-scope (n ∷ ns) x b = (never-both (is_owned (name Scope n x b)), tt)

by-var : (ns : List ℕ) (x : Text) → AllOrdinary (map (λ n. name Scope n x false) ns)
by-var [] x = tt
by-var (n ∷ ns) x = (never-both (is_owned (name Scope n x false)), by-var ns x)

by-export : (b : Bool) (x : Text) → AllOrdinary (if b then export_name x else [])
by-export b x = all-if b (export_name x) [] (refl, tt) tt

by-declaration : (up : List Ancestor) (x : Text) → AllOrdinary (declaration_names up x)
by-declaration [] x = tt
by-declaration (d ∷ up) x =
    let word = is_lexical (first_text d.label.texts) in
    all-if (same_type d.kind VariableDeclaration) ((if word then lexical_names up x else var_names up x) ++ exports_of up x) []
    (all-append (if word then lexical_names up x else var_names up x) (exports_of up x) (all-if word (lexical_names up x) (var_names up x) (in-scope (scopes up) x true) (by-var (scopes up) x)) (by-export (stands_in ExportNamedDeclaration 0 up) x)) tt

-- PLACES where identifiers are no such parameters

abbrev pub Inner : List Ancestor → Type 0
Inner up = (x : Text) → AllOrdinary (bound_names up x)

inner-in : (k : AstType) (l : Label) (all : Fields) (i : ℕ) (up : List Ancestor) → Inner up → Inner (above k l all i 0 ∷ up)
inner-in k l all i up h x =
    let a = above k l all i 0 in
    all-if (is_part a) (bound_names up x) (beyond_part a up x) (h x)
    (all-if (leads_by VariableDeclarator 0 a) (declaration_names up x) (beyond_declarator a up x) (by-declaration up x)
    (all-if (leads_by FunctionDeclaration 0 a) (function_names up x ++ exports_of up x) (beyond_function a up x) (all-append (function_names up x) (exports_of up x) (in-scope (scopes up) x (not (is_at_top up))) (by-export (stands_in ExportNamedDeclaration 0 up) x))
    (all-if (is_parameter a) (parameter_names 0 x) (beyond_parameter a up x) (refl, (refl, tt))
    (all-if (leads_by ClassDeclaration 0 a) (lexical_names up x ++ exports_of up x) (beyond_class a up x) (all-append (lexical_names up x) (exports_of up x) (in-scope (scopes up) x true) (by-export (stands_in ExportNamedDeclaration 0 up) x))
    (all-if (leads_by CatchClause 0 a) (catch_names a x) (beyond_catch a up x) (refl, tt)
    (all-if (is_imported a) (lexical_names up x) [] (in-scope (scopes up) x true) tt))))))

-- WHAT TREES DECLARE

own-ordinary : (up : List Ancestor) (t : Tree) → Inner up → FirstOther up → ((x : Text) → Free (private_names up x)) → AllOrdinary (declared up t)
own-ordinary up (node Identifier l fs) h f p = all-append (bound_names up (first_text l.texts)) (exported_names up (first_text l.texts)) (h (first_text l.texts)) (by-export (stands_in ExportSpecifier 1 up || stands_in ExportAllDeclaration 0 up) (first_text l.texts))
own-ordinary up (node StringLiteral l fs) h f p = by-export (stands_in ExportSpecifier 1 up || stands_in ExportAllDeclaration 0 up) (first_text l.texts)
own-ordinary up (node PrivateIdentifier l fs) h f p = all-free (private_names up (first_text l.texts)) (p (first_text l.texts))
own-ordinary up (node MethodDefinition l fs) h f p = all-free (constructor_names up (first_text l.texts)) (free-constructor up (first_text l.texts) f)
own-ordinary up (node ExportDefaultDeclaration l fs) h f p = (refl, tt)
own-ordinary up (node _ l fs) h f p = tt

mutual
  ordinary-tree : (up : List Ancestor) (t : Tree) → Inner up → FirstOther up → ((x : Text) → Free (private_names up x)) → EachOrdinary (claims is_owned up t)
  ordinary-tree up (node k l fs) h f p = each-push (filter is_owned (declared up (node k l fs))) (claims_in is_owned up k l fs 0 0 fs) (all-filter (declared up (node k l fs)) (own-ordinary up (node k l fs) h f p)) (ordinary-fields up k l fs 0 fs h f)

  ordinary-fields : (up : List Ancestor) (k : AstType) (l : Label) (all : Fields) (i : ℕ) (fs : Fields) → Inner up → FirstOther up → EachOrdinary (claims_in is_owned up k l all 0 i fs)
  ordinary-fields up k l all i done h f = tt
  ordinary-fields up k l all i (g then fs) h f = each-append (claims_by is_owned (above k l all i 0 ∷ up) g) (claims_in is_owned up k l all 0 (suc i) fs) (ordinary-field (above k l all i 0 ∷ up) g (inner-in k l all i up h) refl (λ x. free-private (above k l all i 0) up x (λ c. f))) (ordinary-fields up k l all (suc i) fs h f)

  ordinary-field : (up : List Ancestor) (g : Field) → Inner up → FirstOther up → ((x : Text) → Free (private_names up x)) → EachOrdinary (claims_by is_owned up g)
  ordinary-field up missing h f p = tt
  ordinary-field up (one t) h f p = ordinary-tree up t h f p
  ordinary-field up (many ts) h f p = ordinary-trees up ts h f p
  ordinary-field up (statements ts) h f p = ordinary-trees up ts h f p

  pub ordinary-trees : (up : List Ancestor) (ts : Trees) → Inner up → FirstOther up → ((x : Text) → Free (private_names up x)) → EachOrdinary (claims_all is_owned up ts)
  ordinary-trees up empty h f p = tt
  ordinary-trees up (t before ts) h f p = each-append (claims is_owned up t) (claims_all is_owned up ts) (ordinary-tree up t h f p) (ordinary-trees up ts h f p)
