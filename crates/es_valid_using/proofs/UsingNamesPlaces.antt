-- What a tree declares in two places that are alike for declared names: the same, but for names of the innermost scope that are another
-- node's in the second place.
use Rattle.std.proofs.Common.{◌≡◌, ◌==◌, ℕ, suc, refl, sym, subst, ◌∙◌, List, [], ◌∷◌, ◌++◌, append-nil, filter, map}
use Rattle.std.specs.Prelude.{Bool, true, false, not, ◌&&◌, ◌||◌, bytes_eq, codes, if◌then◌else◌}
use Rattle.std.proofs.lemmas.List.Elements.{filter-append}
use Rattle.es_tree.specs.Ancestors.{Ancestor, ancestor, is_boundary, is_module, is_scope, leads_by, scopes, stands_in}
use Rattle.es_tree.specs.CoreStaticRules.{is_lexical}
use Rattle.es_tree.specs.DeclaredNames.{Name, bound_names, catch_names, constructor_names, declaration_names, declared, exported_names, exports_of, function_names, is_at_top, is_class_key, lexical_names, name, names_in_scope, parameter_names, private_names, slots, var_names}
use Rattle.es_tree.specs.HasForm.{same_type}
use Rattle.es_tree.specs.Names.{first_text}
use Rattle.es_tree.specs.Tree.{Tree, node, Label, Fields, done, ◌then◌, Field, missing, one, many, statements, Trees, empty, ◌before◌, kind_of}
use Rattle.es_tree.specs.Words.{Text}
use Rattle.es_tree.specs.declared.ast_type.AstType.{AstType}
use Rattle.es_tree.specs.declared.ast_type.AstType.TheVariants.{BlockStatement, CatchClause, ClassDeclaration, ExportDefaultDeclaration, FunctionBody, FunctionDeclaration, Identifier, MethodDefinition, PrivateIdentifier, Program, PropertyDefinition, StaticBlock, StringLiteral, VariableDeclaration, VariableDeclarator}
use Rattle.es_tree.specs.declared.place.Namespace.TheVariants.{Constructors, PrivateNames, Scope}
use Rattle.es_valid_names.proofs.Claims.{above, claims, claims_all, claims_by, claims_in, face, is_owned, push}
use Rattle.es_valid_names.proofs.Mute.{Free, beyond_catch, beyond_class, beyond_declarator, beyond_function, beyond_parameter, beyond_part, free-exported, free-exports, free-filter, is_imported, is_member, is_parameter, is_part}
use Rattle.es_valid_using.proofs.UsingNamesLists.{AllBound, Moved, no_list, same_list, lost_list, moved-both}

-- THE NAMES OF ONE NODE: as many that are owned, or none where some were

pub data Less (go : Bool) (ns ms : List Name) : Type 0 where
  as_many : filter is_owned ms ≡ filter is_owned ns → Less go ns ms
  gone : go ≡ true → filter is_owned ms ≡ [] → AllBound (filter is_owned ns) → Less go ns ms

pub less-self : {go : Bool} (ns : List Name) → Less go ns ns
less-self ns = as_many refl

less-if : {go : Bool} (b : Bool) (ns ms ns' ms' : List Name) → Less go ns ms → Less go ns' ms' → Less go (if b then ns else ns') (if b then ms else ms')
less-if true ns ms ns' ms' h k = h
less-if false ns ms ns' ms' h k = k

less-where : {go : Bool} (b : Bool) (ns ms ns' ms' : List Name) → (b ≡ true → Less go ns ms) → Less go ns' ms' → Less go (if b then ns else ns') (if b then ms else ms')
less-where true ns ms ns' ms' h k = h refl
less-where false ns ms ns' ms' h k = k

-- with others that aren't owned
with-free : (ns xs : List Name) → Free xs → filter is_owned (ns ++ xs) ≡ filter is_owned ns
with-free ns xs f = filter-append is_owned ns xs ∙ (λ i. filter is_owned ns ++ free-filter xs f i) ∙ append-nil (filter is_owned ns)

pub less-free : {go : Bool} (ns ms xs ys : List Name) → Free xs → Free ys → Less go ns ms → Less go (ns ++ xs) (ms ++ ys)
less-free ns ms xs ys f g (as_many e) = as_many (with-free ms ys g ∙ e ∙ sym (with-free ns xs f))
less-free ns ms xs ys f g (gone e d b) = gone e (with-free ms ys g ∙ d) (subst (λ (zs : List Name). AllBound zs) (sym (with-free ns xs f)) b)

both-free : {go : Bool} (xs ys : List Name) → Free xs → Free ys → Less go xs ys
both-free xs ys f g = as_many (free-filter ys g ∙ sym (free-filter xs f))

module _ {used used' : Text → Bool} {go : Bool} where
  moved-push : (g : List Name) {gs hs : List (List Name)} → Moved used used' go gs hs → Moved used used' go (push g gs) (push g hs)
  moved-push [] h = h
  moved-push (n ∷ g) h = same_list (n ∷ g) h

  lost-push : (g : List Name) → go ≡ true → AllBound g → {gs hs : List (List Name)} → Moved used used' go gs hs → Moved used used' go (push g gs) hs
  lost-push [] e b h = h
  lost-push (n ∷ g) e b h = lost_list (n ∷ g) e b h

  pub less-push : (ns ms : List Name) → Less go ns ms → {gs hs : List (List Name)} → Moved used used' go gs hs → Moved used used' go (push (filter is_owned ns) gs) (push (filter is_owned ms) hs)
  less-push ns ms (as_many e) {gs} {hs} h = subst (λ (g : List Name). Moved used used' go (push (filter is_owned ns) gs) (push g hs)) (sym e) (moved-push (filter is_owned ns) h)
  less-push ns ms (gone e d b) {gs} {hs} h = subst (λ (g : List Name). Moved used used' go (push (filter is_owned ns) gs) (push g hs)) (sym d) (lost-push (filter is_owned ns) e b h)

-- PLACES

abbrev pub FirstSame : List Ancestor → List Ancestor → Type 0
FirstSame (a ∷ up) (b ∷ vp) = a.number ≡ b.number
FirstSame _ _ = ⊥

-- whatever a function declares
pub record NearBut (go : Bool) (up vp : List Ancestor) : Type 0 where
  pub vars : (x : Text) → filter is_owned (var_names vp x) ≡ filter is_owned (var_names up x)
  pub heads : (x : Text) (b : Bool) → Less go (names_in_scope (scopes up) x b) (names_in_scope (scopes vp) x b)
  pub in_module : is_module vp ≡ is_module up
  pub catch : stands_in CatchClause 1 vp ≡ stands_in CatchClause 1 up
  pub bound : (x : Text) → Less go (bound_names up x) (bound_names vp x)
  pub declaration : (x : Text) → Less go (declaration_names up x) (declaration_names vp x)
  pub private : (x : Text) → filter is_owned (private_names vp x) ≡ filter is_owned (private_names up x)

pub record Near (go : Bool) (up vp : List Ancestor) : Type 0 where
  pub others : NearBut go up vp
  pub functions : (x : Text) → Less go (function_names up x) (function_names vp x)

-- INWARDS

abbrev scopes_with : Bool → Bool → ℕ → List ℕ → List ℕ
scopes_with m b n ns = if m then (if b then n ∷ [] else n ∷ ns) else ns

abbrev vars_in : List ℕ → Text → List Name
vars_in ns x = map (λ n. name Scope n x false) ns

vars-with : (m b : Bool) (n : ℕ) (ns ms : List ℕ) (x : Text) → filter is_owned (vars_in ms x) ≡ filter is_owned (vars_in ns x) → filter is_owned (vars_in (scopes_with m b n ms) x) ≡ filter is_owned (vars_in (scopes_with m b n ns) x)
vars-with true true n ns ms x e = refl
vars-with true false n ns ms x e = at (n == 1)
  where
    at : (v : Bool) → (if v then name Scope n x false ∷ filter is_owned (vars_in ms x) else filter is_owned (vars_in ms x)) ≡ (if v then name Scope n x false ∷ filter is_owned (vars_in ns x) else filter is_owned (vars_in ns x))
    at true = λ i. name Scope n x false ∷ e i
    at false = e
vars-with false b n ns ms x e = e

heads-with : {go : Bool} (m b : Bool) (n : ℕ) (ns ms : List ℕ) (x : Text) (v : Bool) → Less go (names_in_scope ns x v) (names_in_scope ms x v) → Less go (names_in_scope (scopes_with m b n ns) x v) (names_in_scope (scopes_with m b n ms) x v)
heads-with true true n ns ms x v h = less-self (name Scope n x v ∷ [])
heads-with true false n ns ms x v h = less-self (name Scope n x v ∷ [])
heads-with false b n ns ms x v h = h

module _ {go : Bool} (up vp : List Ancestor) (h : NearBut go up vp) where
  abbrev makes : Ancestor → Bool → Bool
  makes a c = is_scope a.kind && not (same_type a.kind BlockStatement && c)

  scopes-by : (a : Ancestor) → scopes_with (makes a (stands_in CatchClause 1 up)) (is_boundary a.kind) a.number (scopes vp) ≡ scopes (a ∷ vp)
  scopes-by a = λ i. scopes_with (makes a (sym h.catch i)) (is_boundary a.kind) a.number (scopes vp)

  heads-in : (a : Ancestor) (x : Text) (b : Bool) → Less go (names_in_scope (scopes (a ∷ up)) x b) (names_in_scope (scopes (a ∷ vp)) x b)
  heads-in a x b = subst (λ (ms : List ℕ). Less go (names_in_scope (scopes (a ∷ up)) x b) (names_in_scope ms x b)) (scopes-by a) (heads-with (makes a (stands_in CatchClause 1 up)) (is_boundary a.kind) a.number (scopes up) (scopes vp) x b (h.heads x b))

  top-in : (a : Ancestor) → is_at_top (a ∷ vp) ≡ is_at_top (a ∷ up)
  top-in a = λ i. leads_by FunctionBody 1 a || leads_by StaticBlock 0 a || (leads_by Program 1 a && not ((same_type a.kind Program && bytes_eq (first_text a.label.texts) (codes "module")) || h.in_module i))

  lexical-less : (x : Text) → Less go (lexical_names up x) (lexical_names vp x)
  lexical-less x = h.heads x true

  with-exports : (x : Text) (ns ms : List Name) → Less go ns ms → Less go (ns ++ exports_of up x) (ms ++ exports_of vp x)
  with-exports x ns ms d = less-free ns ms (exports_of up x) (exports_of vp x) (free-exports up x) (free-exports vp x) d

  -- the names of functions where one is declared
  bound-in : (a : Ancestor) (x : Text) → (leads_by FunctionDeclaration 0 a ≡ true → Less go (function_names up x) (function_names vp x)) → Less go (bound_names (a ∷ up) x) (bound_names (a ∷ vp) x)
  bound-in a x functions =
      less-if (is_part a) (bound_names up x) (bound_names vp x) (beyond_part a up x) (beyond_part a vp x) (h.bound x)
      (less-if (leads_by VariableDeclarator 0 a) (declaration_names up x) (declaration_names vp x) (beyond_declarator a up x) (beyond_declarator a vp x) (h.declaration x)
      (less-where (leads_by FunctionDeclaration 0 a) (function_names up x ++ exports_of up x) (function_names vp x ++ exports_of vp x) (beyond_function a up x) (beyond_function a vp x) (λ e. with-exports x (function_names up x) (function_names vp x) (functions e))
      (less-if (is_parameter a) (parameter_names a.number x) (parameter_names a.number x) (beyond_parameter a up x) (beyond_parameter a vp x) (less-self (parameter_names a.number x))
      (less-if (leads_by ClassDeclaration 0 a) (lexical_names up x ++ exports_of up x) (lexical_names vp x ++ exports_of vp x) (beyond_class a up x) (beyond_class a vp x) (with-exports x (lexical_names up x) (lexical_names vp x) (lexical-less x))
      (less-if (leads_by CatchClause 0 a) (catch_names a x) (catch_names a x) (beyond_catch a up x) (beyond_catch a vp x) (less-self (catch_names a x))
      (less-if (is_imported a) (lexical_names up x) (lexical_names vp x) [] [] (lexical-less x) (less-self [])))))))

  declaration-in : (a : Ancestor) (x : Text) → Less go (declaration_names (a ∷ up) x) (declaration_names (a ∷ vp) x)
  declaration-in a x =
      let lexical = is_lexical (first_text a.label.texts) in
      less-if (same_type a.kind VariableDeclaration) ((if lexical then lexical_names up x else var_names up x) ++ exports_of up x) ((if lexical then lexical_names vp x else var_names vp x) ++ exports_of vp x) [] []
      (with-exports x (if lexical then lexical_names up x else var_names up x) (if lexical then lexical_names vp x else var_names vp x) (less-if lexical (lexical_names up x) (lexical_names vp x) (var_names up x) (var_names vp x) (lexical-less x) (as_many (h.vars x))))
      (less-self [])

  private-in : (a : Ancestor) (x : Text) → (is_class_key (a ∷ []) ≡ true → FirstSame up vp) → filter is_owned (private_names (a ∷ vp) x) ≡ filter is_owned (private_names (a ∷ up) x)
  private-in a x = at up vp
    where
      named : (v : Bool) (m n : ℕ) → (v ≡ true → m ≡ n) → filter is_owned (if v then name PrivateNames n x false ∷ map (λ s. name s n x true) (slots a) else []) ≡ filter is_owned (if v then name PrivateNames m x false ∷ map (λ s. name s m x true) (slots a) else [])
      named true m n e = λ i. filter is_owned (name PrivateNames (sym (e refl) i) x false ∷ map (λ s. name s (sym (e refl) i) x true) (slots a))
      named false m n e = refl

      none : (v : Bool) (m : ℕ) → (v ≡ true → ⊥) → [] ≡ filter is_owned (if v then name PrivateNames m x false ∷ map (λ s. name s m x true) (slots a) else [])
      none true m e = absurd (e refl)
      none false m e = refl

      at : (us vs : List Ancestor) → (is_class_key (a ∷ []) ≡ true → FirstSame us vs) → filter is_owned (private_names (a ∷ vs) x) ≡ filter is_owned (private_names (a ∷ us) x)
      at [] [] f = refl
      at (b ∷ us) (c ∷ vs) f = named (is_class_key (a ∷ [])) b.number c.number f
      at [] (c ∷ vs) f = sym (none (is_class_key (a ∷ [])) c.number f)
      at (b ∷ us) [] f = none (is_class_key (a ∷ [])) b.number f

  near-beyond : (a : Ancestor) → (is_class_key (a ∷ []) ≡ true → FirstSame up vp) → (leads_by FunctionDeclaration 0 a ≡ true → (x : Text) → Less go (function_names up x) (function_names vp x)) → Near go (a ∷ up) (a ∷ vp)
  near-beyond a key functions = record {
    others = record {
      vars = λ x. subst (λ (ms : List ℕ). filter is_owned (vars_in ms x) ≡ filter is_owned (var_names (a ∷ up) x)) (scopes-by a) (vars-with (makes a (stands_in CatchClause 1 up)) (is_boundary a.kind) a.number (scopes up) (scopes vp) x (h.vars x));
      heads = heads-in a;
      in_module = λ i. (same_type a.kind Program && bytes_eq (first_text a.label.texts) (codes "module")) || h.in_module i;
      catch = refl;
      bound = λ x. bound-in a x (λ e. functions e x);
      declaration = declaration-in a;
      private = λ x. private-in a x key;
    };
    functions = λ x. subst (λ (v : Bool). Less go (function_names (a ∷ up) x) (names_in_scope (scopes (a ∷ vp)) x (not v))) (sym (top-in a)) (heads-in a x (not (is_at_top (a ∷ up))));
  }

  declared-less : (t : Tree) → (is_member (kind_of t) ≡ true → FirstSame up vp) → Less go (declared up t) (declared vp t)
  declared-less (node Identifier l fs) f = less-free (bound_names up (first_text l.texts)) (bound_names vp (first_text l.texts)) (exported_names up (first_text l.texts)) (exported_names vp (first_text l.texts)) (free-exported up (first_text l.texts)) (free-exported vp (first_text l.texts)) (h.bound (first_text l.texts))
  declared-less (node StringLiteral l fs) f = both-free (exported_names up (first_text l.texts)) (exported_names vp (first_text l.texts)) (free-exported up (first_text l.texts)) (free-exported vp (first_text l.texts))
  declared-less (node PrivateIdentifier l fs) f = as_many (h.private (first_text l.texts))
  declared-less (node MethodDefinition l fs) f = at up vp (f refl)
    where
      at : (us vs : List Ancestor) → FirstSame us vs → Less go (constructor_names us (first_text l.texts)) (constructor_names vs (first_text l.texts))
      at [] [] e = absurd e
      at [] (c ∷ vs) e = absurd e
      at (b ∷ us) [] e = absurd e
      at (b ∷ us) (c ∷ vs) e = as_many (λ i. filter is_owned (if bytes_eq (first_text l.texts) (codes "constructor") then name Constructors (sym e i) [] true ∷ [] else []))
  declared-less (node ExportDefaultDeclaration l fs) f = less-self _
  declared-less (node _ l fs) f = less-self []

pub near-in : {go : Bool} (up vp : List Ancestor) → Near go up vp → (a : Ancestor) → (is_class_key (a ∷ []) ≡ true → FirstSame up vp) → Near go (a ∷ up) (a ∷ vp)
near-in up vp h a key = near-beyond up vp h.others a key (λ e. h.functions)

key-member : (k : AstType) (l : Label) (fs : Fields) (i m : ℕ) → is_class_key (ancestor k l fs i m ∷ []) ≡ true → is_member k ≡ true
key-member MethodDefinition l fs i m e = refl
key-member PropertyDefinition l fs i m e = refl
key-member _ l fs i m e = absurd (cc e)

no-function : (k : AstType) (b : Bool) → (same_type k FunctionDeclaration && b) ≡ true → same_type k FunctionDeclaration ≡ false → ⊥
no-function k b e d = let no : false ≡ true = (λ i. sym d i && b) ∙ e in cc no

-- WHAT TREES DECLARE

module _ {used used' : Text → Bool} {go : Bool} where
  mutual
    pub claims-near : (up vp : List Ancestor) → Near go up vp → (t : Tree) → (is_member (kind_of t) ≡ true → FirstSame up vp) → Moved used used' go (claims is_owned up t) (claims is_owned vp t)
    claims-near up vp h (node k l fs) f = less-push (declared up (node k l fs)) (declared vp (node k l fs)) (declared-less up vp h.others (node k l fs) f) (claims-in-near up vp k l fs 0 (λ i. near-in up vp h (above k l fs i 0) (λ e. f (key-member k l (face i fs) i 0 e))) 0 fs)

    claims-in-near : (up vp : List Ancestor) (k : AstType) (l : Label) (all : Fields) (m : ℕ) → ((i : ℕ) → Near go (above k l all i m ∷ up) (above k l all i m ∷ vp)) → (i : ℕ) (fs : Fields) → Moved used used' go (claims_in is_owned up k l all m i fs) (claims_in is_owned vp k l all m i fs)
    claims-in-near up vp k l all m h i done = no_list
    claims-in-near up vp k l all m h i (g then fs) = moved-both (claims-by-near (above k l all i m ∷ up) (above k l all i m ∷ vp) (h i) refl g) (claims-in-near up vp k l all m h (suc i) fs)

    pub claims-by-near : (up vp : List Ancestor) → Near go up vp → FirstSame up vp → (g : Field) → Moved used used' go (claims_by is_owned up g) (claims_by is_owned vp g)
    claims-by-near up vp h f missing = no_list
    claims-by-near up vp h f (one t) = claims-near up vp h t (λ e. f)
    claims-by-near up vp h f (many ts) = claims-all-near up vp h f ts
    claims-by-near up vp h f (statements ts) = claims-all-near up vp h f ts

    pub claims-all-near : (up vp : List Ancestor) → Near go up vp → FirstSame up vp → (ts : Trees) → Moved used used' go (claims_all is_owned up ts) (claims_all is_owned vp ts)
    claims-all-near up vp h f empty = no_list
    claims-all-near up vp h f (t before ts) = moved-both (claims-near up vp h t (λ e. f)) (claims-all-near up vp h f ts)

  -- of a node that is no function, whatever functions declare there
  pub claims-beyond : (up vp : List Ancestor) → NearBut go up vp → (t : Tree) → same_type (kind_of t) FunctionDeclaration ≡ false → (is_member (kind_of t) ≡ true → FirstSame up vp) → Moved used used' go (claims is_owned up t) (claims is_owned vp t)
  claims-beyond up vp h (node k l fs) other f = less-push (declared up (node k l fs)) (declared vp (node k l fs)) (declared-less up vp h (node k l fs) f) (claims-in-near up vp k l fs 0 (λ i. near-beyond up vp h (above k l fs i 0) (λ e. f (key-member k l (face i fs) i 0 e)) (λ e. absurd (no-function k (i == 0) e other))) 0 fs)
