-- What a tree declares in the namespaces that are looked at, where its ancestors differ: the same, or, where some may go, a part of it.
use Rattle.std.proofs.Common.{◌≡◌, ◌==◌, ℕ, suc, refl, sym, subst, List, [], ◌∷◌, ◌++◌, filter, map, cond}
use Rattle.std.specs.Prelude.{Bool, true, false, not, ◌&&◌, ◌||◌, bytes_eq, codes, if◌then◌else◌}
use Rattle.std.proofs.lemmas.List.Elements.{filter-append}
use Rattle.es_tree.specs.Ancestors.{Ancestor, is_boundary, is_module, is_scope, leads_by, scopes, stands_in}
use Rattle.es_tree.specs.CoreStaticRules.{is_lexical}
use Rattle.es_tree.specs.DeclaredNames.{Name, bound_names, catch_names, constructor_names, declaration_names, declared, exported_names, exports_of, function_names, is_at_top, is_class_key, lexical_names, name, names_in_scope, parameter_names, private_names, slots, var_names}
use Rattle.es_tree.specs.HasForm.{same_type}
use Rattle.es_tree.specs.Names.{first_text}
use Rattle.es_tree.specs.Tree.{Tree, node, Label, Fields, done, ◌then◌, Field, missing, one, many, statements, Trees, empty, ◌before◌, kind_of}
use Rattle.es_tree.specs.Words.{Text}
use Rattle.es_tree.specs.declared.ast_type.AstType.{AstType}
use Rattle.es_tree.specs.declared.ast_type.AstType.TheVariants.{BlockStatement, CatchClause, ClassDeclaration, ExportDefaultDeclaration, FunctionBody, FunctionDeclaration, Identifier, MethodDefinition, PrivateIdentifier, Program, PropertyDefinition, StaticBlock, StringLiteral, VariableDeclaration, VariableDeclarator}
use Rattle.es_tree.specs.declared.place.Namespace.TheVariants.{Constructors, PrivateNames, Scope}
use Rattle.es_valid_names.proofs.Claims.{above, claims, claims_all, claims_by, claims_in, is_owned}
use Rattle.es_valid_names.proofs.Mute.{beyond_catch, beyond_class, beyond_declarator, beyond_function, beyond_parameter, beyond_part, free-constructor, free-exported, free-exports, free-filter, free-private, is_imported, is_member, is_parameter, is_part}
use Rattle.es_valid_rests.proofs.RestNamesParts.{Part, Parts, part-both, part-cond, part-map, part-none, part-self, parts-both, parts-push}
use Rattle.es_valid_rests.proofs.RestNamesParts.Part.{none}
use Rattle.es_valid_rests.proofs.RestNamesParts.Parts.{no_list}

-- NUMBERS that are looked at

abbrev pub looked_at : List ℕ → List ℕ
looked_at ns = filter (λ n. n == 1) ns

abbrev pub innermost : List ℕ → List ℕ
innermost [] = []
innermost (n ∷ ns) = looked_at (n ∷ [])

abbrev pub parent_number : List Ancestor → List ℕ
parent_number [] = []
parent_number (a ∷ up) = looked_at (a.number ∷ [])

-- NAMES that are, by those numbers

pub vars-owned : (ns : List ℕ) (x : Text) → filter is_owned (map (λ n. name Scope n x false) ns) ≡ map (λ n. name Scope n x false) (looked_at ns)
vars-owned [] x = refl
vars-owned (n ∷ ns) x = at (n == 1) (vars-owned ns x)
  where
    at : (b : Bool) → filter is_owned (map (λ m. name Scope m x false) ns) ≡ map (λ m. name Scope m x false) (looked_at ns) → cond b (name Scope n x false ∷ filter is_owned (map (λ m. name Scope m x false) ns)) (filter is_owned (map (λ m. name Scope m x false) ns)) ≡ map (λ m. name Scope m x false) (cond b (n ∷ looked_at ns) (looked_at ns))
    at true e = λ i. name Scope n x false ∷ e i
    at false e = e

pub first-owned : (ns : List ℕ) (x : Text) (v : Bool) → filter is_owned (names_in_scope ns x v) ≡ map (λ n. name Scope n x v) (innermost ns)
first-owned [] x v = refl
first-owned (n ∷ ns) x v = at (n == 1)
  where
    at : (b : Bool) → cond b (name Scope n x v ∷ []) [] ≡ map (λ m. name Scope m x v) (cond b (n ∷ []) [])
    at true = refl
    at false = refl

abbrev keys_of : Ancestor → Text → ℕ → List Name
keys_of a x n = if is_class_key (a ∷ []) then name PrivateNames n x false ∷ map (λ s. name s n x true) (slots a) else []

abbrev constructor_of : Text → ℕ → List Name
constructor_of x n = if bytes_eq x (codes "constructor") then name Constructors n [] true ∷ [] else []

abbrev by_parent : (ℕ → List Name) → List ℕ → List Name
by_parent f [] = []
by_parent f (n ∷ ns) = filter is_owned (f n)

keys-owned : (a : Ancestor) (up : List Ancestor) (x : Text) → filter is_owned (private_names (a ∷ up) x) ≡ by_parent (keys_of a x) (parent_number up)
keys-owned a [] x = refl
keys-owned a (c ∷ up) x = at (c.number == 1) refl
  where
    at : (b : Bool) → (c.number == 1) ≡ b → filter is_owned (private_names (a ∷ (c ∷ up)) x) ≡ by_parent (keys_of a x) (cond b (c.number ∷ []) [])
    at true e = refl
    at false e = free-filter (private_names (a ∷ (c ∷ up)) x) (free-private a (c ∷ up) x (λ k. e))

constructor-owned : (up : List Ancestor) (x : Text) → filter is_owned (constructor_names up x) ≡ by_parent (constructor_of x) (parent_number up)
constructor-owned [] x = refl
constructor-owned (c ∷ up) x = at (c.number == 1) refl
  where
    at : (b : Bool) → (c.number == 1) ≡ b → filter is_owned (constructor_names (c ∷ up) x) ≡ by_parent (constructor_of x) (cond b (c.number ∷ []) [])
    at true e = refl
    at false e = free-filter (constructor_names (c ∷ up) x) (free-constructor (c ∷ up) x e)

-- what is no key of a class declares no private name
abbrev pub NoKey : List Ancestor → Type 0
NoKey [] = Unit {0}
NoKey (a ∷ up) = is_class_key (a ∷ []) ≡ false

no-key : (up : List Ancestor) → NoKey up → (x : Text) → filter is_owned (private_names up x) ≡ []
no-key [] e x = refl
no-key (a ∷ up) e x = free-filter (private_names (a ∷ up) x) (free-private a up x (λ d. absurd (cc (e, d))))

-- ANCESTORS as they are asked

pub data Parent (loose : Bool) (up vp : List Ancestor) : Type 0 where
  same_parent : parent_number vp ≡ parent_number up → Parent loose up vp
  no_parent : loose ≡ true → parent_number vp ≡ [] → Parent loose up vp

-- of two lists of names the second is a part, as far as the names are looked at
abbrev pub OwnedPart : Bool → List Name → List Name → Type 0
OwnedPart loose xs ys = Part loose (filter is_owned xs) (filter is_owned ys)

pub record Fit (loose : Bool) (up vp : List Ancestor) : Type 0 where
  pub module_around : is_module vp ≡ is_module up
  pub top : is_at_top vp ≡ is_at_top up
  pub clause : stands_in CatchClause 1 vp ≡ stands_in CatchClause 1 up
  pub hoisted : Part loose (looked_at (scopes up)) (looked_at (scopes vp))
  pub first : Part loose (innermost (scopes up)) (innermost (scopes vp))
  pub bound : (x : Text) → OwnedPart loose (bound_names up x) (bound_names vp x)
  pub declares : (x : Text) → OwnedPart loose (declaration_names up x) (declaration_names vp x)
  pub private : (x : Text) → OwnedPart loose (private_names up x) (private_names vp x)

module _ {loose : Bool} where
  pub owned-self : (xs : List Name) → OwnedPart loose xs xs
  owned-self xs = part-self (filter is_owned xs)

  pub owned-both : (xs ys zs ws : List Name) → OwnedPart loose xs ys → OwnedPart loose zs ws → OwnedPart loose (xs ++ zs) (ys ++ ws)
  owned-both xs ys zs ws h k = subst (λ (ns : List Name). Part loose ns (filter is_owned (ys ++ ws))) (sym (filter-append is_owned xs zs)) (subst (λ (ns : List Name). Part loose (filter is_owned xs ++ filter is_owned zs) ns) (sym (filter-append is_owned ys ws)) (part-both h k))

  -- names of which none is looked at don't count
  pub owned-before : (xs ys zs ws : List Name) → OwnedPart loose xs ys → filter is_owned zs ≡ [] → filter is_owned ws ≡ [] → OwnedPart loose (xs ++ zs) (ys ++ ws)
  owned-before xs ys zs ws h e d = owned-both xs ys zs ws h (subst (λ (ns : List Name). Part loose (filter is_owned zs) ns) (sym d) (subst (λ (ns : List Name). Part loose ns []) (sym e) none))

  owned-if : (b : Bool) (xs ys zs ws : List Name) → OwnedPart loose xs ys → OwnedPart loose zs ws → OwnedPart loose (if b then xs else zs) (if b then ys else ws)
  owned-if true xs ys zs ws h k = h
  owned-if false xs ys zs ws h k = k

  parent-part : (f : ℕ → List Name) (up vp : List Ancestor) → Parent loose up vp → Part loose (by_parent f (parent_number up)) (by_parent f (parent_number vp))
  parent-part f up vp (same_parent e) = subst (λ (ns : List ℕ). Part loose (by_parent f (parent_number up)) (by_parent f ns)) (sym e) (part-self (by_parent f (parent_number up)))
  parent-part f up vp (no_parent e d) = subst (λ (ns : List ℕ). Part loose (by_parent f (parent_number up)) (by_parent f ns)) (sym d) (part-none e (by_parent f (parent_number up)))

  pub plain-private : (up vp : List Ancestor) → NoKey up → NoKey vp → (x : Text) → OwnedPart loose (private_names up x) (private_names vp x)
  plain-private up vp e d x = subst (λ (xs : List Name). Part loose xs (filter is_owned (private_names vp x))) (sym (no-key up e x)) (subst (λ (xs : List Name). Part loose [] xs) (sym (no-key vp d x)) none)

  first-part : (ns ms : List ℕ) → Part loose (innermost ns) (innermost ms) → (x : Text) (v : Bool) → OwnedPart loose (names_in_scope ns x v) (names_in_scope ms x v)
  first-part ns ms h x v = subst (λ (xs : List Name). Part loose xs (filter is_owned (names_in_scope ms x v))) (sym (first-owned ns x v)) (subst (λ (xs : List Name). Part loose (map (λ n. name Scope n x v) (innermost ns)) xs) (sym (first-owned ms x v)) (part-map (λ n. name Scope n x v) h))

  vars-part : (ns ms : List ℕ) → Part loose (looked_at ns) (looked_at ms) → (x : Text) → OwnedPart loose (map (λ n. name Scope n x false) ns) (map (λ n. name Scope n x false) ms)
  vars-part ns ms h x = subst (λ (xs : List Name). Part loose xs (filter is_owned (map (λ n. name Scope n x false) ms))) (sym (vars-owned ns x)) (subst (λ (xs : List Name). Part loose (map (λ n. name Scope n x false) (looked_at ns)) xs) (sym (vars-owned ms x)) (part-map (λ n. name Scope n x false) h))

  -- scopes with one more
  more-hoisted : (b c v : Bool) (n : ℕ) (ns ms : List ℕ) → v ≡ b → Part loose (looked_at ns) (looked_at ms) → Part loose (looked_at (if b then (if c then n ∷ [] else n ∷ ns) else ns)) (looked_at (if v then (if c then n ∷ [] else n ∷ ms) else ms))
  more-hoisted true true true n ns ms e h = part-self (looked_at (n ∷ []))
  more-hoisted true false true n ns ms e h = part-cond (n == 1) n h
  more-hoisted false c false n ns ms e h = h
  more-hoisted true c false n ns ms e h = absurd (cc e)
  more-hoisted false c true n ns ms e h = absurd (cc e)

  more-first : (b c v : Bool) (n : ℕ) (ns ms : List ℕ) → v ≡ b → Part loose (innermost ns) (innermost ms) → Part loose (innermost (if b then (if c then n ∷ [] else n ∷ ns) else ns)) (innermost (if v then (if c then n ∷ [] else n ∷ ms) else ms))
  more-first true true true n ns ms e h = part-self (looked_at (n ∷ []))
  more-first true false true n ns ms e h = part-self (looked_at (n ∷ []))
  more-first false c false n ns ms e h = h
  more-first true c false n ns ms e h = absurd (cc e)
  more-first false c true n ns ms e h = absurd (cc e)

  -- ONE ANCESTOR MORE, the same on both sides
  module _ (a : Ancestor) (up vp : List Ancestor) (f : Fit loose up vp) where
    exports-none : (vs : List Ancestor) (x : Text) → filter is_owned (exports_of vs x) ≡ []
    exports-none vs x = free-filter (exports_of vs x) (free-exports vs x)

    lexical-in : (x : Text) → OwnedPart loose (lexical_names up x) (lexical_names vp x)
    lexical-in x = first-part (scopes up) (scopes vp) f.first x true

    function-in : (x : Text) → OwnedPart loose (function_names up x) (function_names vp x)
    function-in x = subst (λ (b : Bool). OwnedPart loose (function_names up x) (names_in_scope (scopes vp) x (not b))) (sym f.top) (first-part (scopes up) (scopes vp) f.first x (not (is_at_top up)))

    exported-in : (xs ys : List Name) (x : Text) → OwnedPart loose xs ys → OwnedPart loose (xs ++ exports_of up x) (ys ++ exports_of vp x)
    exported-in xs ys x h = owned-before xs ys (exports_of up x) (exports_of vp x) h (exports-none up x) (exports-none vp x)

    bound-in : (x : Text) → OwnedPart loose (bound_names (a ∷ up) x) (bound_names (a ∷ vp) x)
    bound-in x =
        owned-if (is_part a) (bound_names up x) (bound_names vp x) (beyond_part a up x) (beyond_part a vp x) (f.bound x)
        (owned-if (leads_by VariableDeclarator 0 a) (declaration_names up x) (declaration_names vp x) (beyond_declarator a up x) (beyond_declarator a vp x) (f.declares x)
        (owned-if (leads_by FunctionDeclaration 0 a) (function_names up x ++ exports_of up x) (function_names vp x ++ exports_of vp x) (beyond_function a up x) (beyond_function a vp x) (exported-in (function_names up x) (function_names vp x) x (function-in x))
        (owned-if (is_parameter a) (parameter_names a.number x) (parameter_names a.number x) (beyond_parameter a up x) (beyond_parameter a vp x) (owned-self (parameter_names a.number x))
        (owned-if (leads_by ClassDeclaration 0 a) (lexical_names up x ++ exports_of up x) (lexical_names vp x ++ exports_of vp x) (beyond_class a up x) (beyond_class a vp x) (exported-in (lexical_names up x) (lexical_names vp x) x (lexical-in x))
        (owned-if (leads_by CatchClause 0 a) (catch_names a x) (catch_names a x) (beyond_catch a up x) (beyond_catch a vp x) (owned-self (catch_names a x))
        (owned-if (is_imported a) (lexical_names up x) (lexical_names vp x) [] [] (lexical-in x) none))))))

    pub declares-in : (x : Text) → OwnedPart loose (declaration_names (a ∷ up) x) (declaration_names (a ∷ vp) x)
    declares-in x =
        let word = is_lexical (first_text a.label.texts) in
        owned-if (same_type a.kind VariableDeclaration) ((if word then lexical_names up x else var_names up x) ++ exports_of up x) ((if word then lexical_names vp x else var_names vp x) ++ exports_of vp x) [] []
        (exported-in (if word then lexical_names up x else var_names up x) (if word then lexical_names vp x else var_names vp x) x (owned-if word (lexical_names up x) (lexical_names vp x) (var_names up x) (var_names vp x) (lexical-in x) (vars-part (scopes up) (scopes vp) f.hoisted x)))
        none

    same-scope : (is_scope a.kind && not (same_type a.kind BlockStatement && stands_in CatchClause 1 vp)) ≡ (is_scope a.kind && not (same_type a.kind BlockStatement && stands_in CatchClause 1 up))
    same-scope = λ i. is_scope a.kind && not (same_type a.kind BlockStatement && f.clause i)

    private-in : Parent loose up vp → (x : Text) → OwnedPart loose (private_names (a ∷ up) x) (private_names (a ∷ vp) x)
    private-in p x = subst (λ (xs : List Name). Part loose xs (filter is_owned (private_names (a ∷ vp) x))) (sym (keys-owned a up x)) (subst (λ (xs : List Name). Part loose (by_parent (keys_of a x) (parent_number up)) xs) (sym (keys-owned a vp x)) (parent-part (keys_of a x) up vp p))

    fit-with : ((x : Text) → OwnedPart loose (private_names (a ∷ up) x) (private_names (a ∷ vp) x)) → Fit loose (a ∷ up) (a ∷ vp)
    fit-with keys = record {
      module_around = λ i. (same_type a.kind Program && bytes_eq (first_text a.label.texts) (codes "module")) || f.module_around i;
      top = λ i. leads_by FunctionBody 1 a || leads_by StaticBlock 0 a || (leads_by Program 1 a && not ((same_type a.kind Program && bytes_eq (first_text a.label.texts) (codes "module")) || f.module_around i));
      clause = refl;
      hoisted = more-hoisted _ (is_boundary a.kind) _ a.number (scopes up) (scopes vp) same-scope f.hoisted;
      first = more-first _ (is_boundary a.kind) _ a.number (scopes up) (scopes vp) same-scope f.first;
      bound = bound-in;
      declares = declares-in;
      private = keys;
    }

    pub fit-in : Parent loose up vp → Fit loose (a ∷ up) (a ∷ vp)
    fit-in p = fit-with (private-in p)

    -- where the node is no member of a class
    pub fit-plain : is_class_key (a ∷ []) ≡ false → Fit loose (a ∷ up) (a ∷ vp)
    fit-plain e = fit-with (λ x. plain-private (a ∷ up) (a ∷ vp) e e x)

-- where a declarator declares, in declarations of the same word
abbrev pub declaring : Label → Fields → Label → Fields → List Ancestor → List Ancestor
declaring l fs m ds up = above VariableDeclarator l fs 0 0 ∷ (above VariableDeclaration m ds 0 0 ∷ up)

pub declarator-fit : {loose : Bool} (l k m n : Label) (fs gs ds es : Fields) (up vp : List Ancestor) → first_text n.texts ≡ first_text m.texts → Fit loose up vp → Fit loose (declaring l fs m ds up) (declaring k gs n es vp)
declarator-fit {loose} l k m n fs gs ds es up vp e f =
    let old = above VariableDeclaration m ds 0 0 in
    record {
      module_around = f.module_around;
      top = refl;
      clause = refl;
      hoisted = f.hoisted;
      first = f.first;
      bound = λ x. subst (λ (y : Text). OwnedPart loose (declaration_names (old ∷ up) x) ((if is_lexical y then lexical_names vp x else var_names vp x) ++ exports_of vp x)) (sym e) (declares-in old up vp f x);
      declares = λ x. none;
      private = λ x. plain-private (declaring l fs m ds up) (declaring k gs n es vp) refl refl x;
    }

-- NODES that are no members of a class

member-key : (k : AstType) (l : Label) (fs : Fields) (i m : ℕ) → is_member k ≡ false → is_class_key (above k l fs i m ∷ []) ≡ false
member-key MethodDefinition l fs i m e = absurd (cc e)
member-key PropertyDefinition l fs i m e = absurd (cc e)
member-key _ l fs i m e = refl

no-method : (k : AstType) → is_member k ≡ false → same_type k MethodDefinition ≡ true → ⊥
no-method MethodDefinition e d = absurd (cc e)
no-method _ e d = absurd (cc d)

abbrev pub NoMembers : Trees → Type 0
NoMembers empty = Unit {0}
NoMembers (t before ts) = (is_member (kind_of t) ≡ false) × NoMembers ts

-- WHAT TREES DECLARE

module _ {loose : Bool} where
  declared-fit : (up vp : List Ancestor) → Fit loose up vp → (t : Tree) → (same_type (kind_of t) MethodDefinition ≡ true → Parent loose up vp) → OwnedPart loose (declared up t) (declared vp t)
  declared-fit up vp f (node Identifier l fs) p =
      let x = first_text l.texts in
      owned-before (bound_names up x) (bound_names vp x) (exported_names up x) (exported_names vp x) (f.bound x) (free-filter (exported_names up x) (free-exported up x)) (free-filter (exported_names vp x) (free-exported vp x))
  declared-fit up vp f (node StringLiteral l fs) p =
      let x = first_text l.texts in
      owned-before [] [] (exported_names up x) (exported_names vp x) none (free-filter (exported_names up x) (free-exported up x)) (free-filter (exported_names vp x) (free-exported vp x))
  declared-fit up vp f (node PrivateIdentifier l fs) p = f.private (first_text l.texts)
  declared-fit up vp f (node MethodDefinition l fs) p =
      let x = first_text l.texts in
      subst (λ (xs : List Name). Part loose xs (filter is_owned (constructor_names vp x))) (sym (constructor-owned up x)) (subst (λ (xs : List Name). Part loose (by_parent (constructor_of x) (parent_number up)) xs) (sym (constructor-owned vp x)) (parent-part (constructor_of x) up vp (p refl)))
  declared-fit up vp f (node ExportDefaultDeclaration l fs) p = none
  declared-fit up vp f (node _ l fs) p = none

  mutual
    pub claims-fit : (up vp : List Ancestor) → Fit loose up vp → Parent loose up vp → (t : Tree) → Parts loose (claims is_owned up t) (claims is_owned vp t)
    claims-fit up vp f p (node k l fs) = parts-push (declared-fit up vp f (node k l fs) (λ e. p)) (claims-in-fit up vp f p k l fs 0 0 fs)

    pub claims-in-fit : (up vp : List Ancestor) → Fit loose up vp → Parent loose up vp → (k : AstType) (l : Label) (all : Fields) (m i : ℕ) (fs : Fields) → Parts loose (claims_in is_owned up k l all m i fs) (claims_in is_owned vp k l all m i fs)
    claims-in-fit up vp f p k l all m i done = no_list
    claims-in-fit up vp f p k l all m i (g then fs) = parts-both (claims-by-fit (above k l all i m ∷ up) (above k l all i m ∷ vp) (fit-in (above k l all i m) up vp f p) (same_parent refl) g) (claims-in-fit up vp f p k l all m (suc i) fs)

    pub claims-by-fit : (up vp : List Ancestor) → Fit loose up vp → Parent loose up vp → (g : Field) → Parts loose (claims_by is_owned up g) (claims_by is_owned vp g)
    claims-by-fit up vp f p missing = no_list
    claims-by-fit up vp f p (one t) = claims-fit up vp f p t
    claims-by-fit up vp f p (many ts) = claims-all-fit up vp f p ts
    claims-by-fit up vp f p (statements ts) = claims-all-fit up vp f p ts

    pub claims-all-fit : (up vp : List Ancestor) → Fit loose up vp → Parent loose up vp → (ts : Trees) → Parts loose (claims_all is_owned up ts) (claims_all is_owned vp ts)
    claims-all-fit up vp f p empty = no_list
    claims-all-fit up vp f p (t before ts) = parts-both (claims-fit up vp f p t) (claims-all-fit up vp f p ts)

  -- of nodes that are no members of a class it isn't asked whether their parent is looked at
  plain-in-fit : (up vp : List Ancestor) → Fit loose up vp → (k : AstType) → is_member k ≡ false → (l : Label) (all : Fields) (m i : ℕ) (fs : Fields) → Parts loose (claims_in is_owned up k l all m i fs) (claims_in is_owned vp k l all m i fs)
  plain-in-fit up vp f k e l all m i done = no_list
  plain-in-fit up vp f k e l all m i (g then fs) = parts-both (claims-by-fit (above k l all i m ∷ up) (above k l all i m ∷ vp) (fit-plain (above k l all i m) up vp f (member-key k l all i m e)) (same_parent refl) g) (plain-in-fit up vp f k e l all m (suc i) fs)

  pub plain-fit : (up vp : List Ancestor) → Fit loose up vp → (t : Tree) → is_member (kind_of t) ≡ false → Parts loose (claims is_owned up t) (claims is_owned vp t)
  plain-fit up vp f (node k l fs) e = parts-push (declared-fit up vp f (node k l fs) (λ d. absurd (no-method k e d))) (plain-in-fit up vp f k e l fs 0 0 fs)

  pub plain-all-fit : (up vp : List Ancestor) → Fit loose up vp → (ts : Trees) → NoMembers ts → Parts loose (claims_all is_owned up ts) (claims_all is_owned vp ts)
  plain-all-fit up vp f empty e = no_list
  plain-all-fit up vp f (t before ts) e = parts-both (plain-fit up vp f t e.0) (plain-all-fit up vp f ts e.1)
