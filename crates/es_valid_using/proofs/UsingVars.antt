-- What `var` declares in the scopes around it, by its ancestors, it declares by its role: where what a statement declares by `var` passes
-- a test, so do the names of the static rules that are no lexical ones.
use Rattle.std.proofs.Common.{◌≡◌, ◌+◌, ◌==◌, ℕ, zero, suc, refl, sym, subst, ◌∙◌, List, [], ◌∷◌, ◌++◌, cond, filter, map, arith}
use Rattle.std.specs.Prelude.{Bool, true, false, not, ◌&&◌, ◌||◌, Some, if◌then◌else◌, bytes_eq, codes}
use Rattle.es_tree.specs.Ancestors.{Ancestor, is_boundary, scopes, stands_in}
use Rattle.es_tree.specs.Attributes.{child_entries}
use Rattle.es_tree.specs.CoreStaticRules.{is_lexical}
use Rattle.es_tree.specs.DeclaredNames.{Name, bound_names, declaration_names, declared as names_of, export_name, exported_names, exports_of, function_names, is_at_top, lexical_names, name, names_in_scope, var_names}
use Rattle.es_tree.specs.HasForm.{ElementsPlace, elements_of, same_type}
use Rattle.es_tree.specs.Names.{first_text}
use Rattle.es_tree.specs.Tree.{Tree, node, Label, Fields, done, ◌then◌, Field, missing, one, many, statements, Trees, empty, ◌before◌, kind_of, fields_of}
use Rattle.es_tree.specs.Words.{Text}
use Rattle.es_tree.specs.declared.ast_type.AstType.{AstType}
use Rattle.es_tree.specs.declared.ast_type.AstType.TheVariants.{ArrayExpression, ArrayPattern, ArrayTarget, ArrowFunctionExpression, AssignmentPattern, CatchClause, ClassDeclaration, ExportAllDeclaration, ExportDefaultDeclaration, ExportNamedDeclaration, ExportSpecifier, FunctionBody, FunctionDeclaration, FunctionExpression, Identifier, ImportDefaultSpecifier, ImportNamespaceSpecifier, ImportSpecifier, MethodDefinition, ObjectPattern, PatternProperty, PrivateIdentifier, Program, RestElement, StaticBlock, StringLiteral, VariableDeclaration, VariableDeclarator}
use Rattle.es_tree.specs.declared.place.Namespace.TheVariants.{Scope}
use Rattle.es_semantic.specs.RolesOf.{function_binding, role_at}
use Rattle.es_semantic.specs.SymbolsOf.{hoists}
use Rattle.es_semantic.specs.declared.place.Binding.TheVariants.{Constant, Let, Variable}
use Rattle.es_semantic.specs.declared.place.Role.{Role}
use Rattle.es_semantic.specs.declared.place.Role.TheVariants.{Binds}
use Rattle.es_semantic.proofs.FormEdges.{EdgesAll, EdgesBy, EdgesIn, ElementsFit, TableFits, elements-are, entries_fit, is_last}
use Rattle.es_resolution.specs.Declarations.{Bound, declared, declared_among, declared_by, declared_in, is_asked, own_declared, reaches_out, symbol_of}
use Rattle.es_valid_names.proofs.Claims.{AllUsed, above, claims, claims_all, claims_by, claims_in, is_owned, is_scope_space, push}
use Rattle.es_valid_names.proofs.Mute.{Free, Sealed, free-private, sealed-boundary, sealed-field}
use Rattle.es_valid_names.proofs.StandsFit.{one-zero, two-one}
use Rattle.es_valid_names.proofs.StartUsed.{used-constructor, used-private}

-- WHAT STANDS WHERE: a body in functions and arrows alone, and a program in nothing; and a declaration has one field

abbrev pub is_enclosed : AstType → Bool
is_enclosed FunctionBody = true
is_enclosed Program = true
is_enclosed _ = false

abbrev pub inside : AstType → ℕ → Bool → AstType → Bool
inside k i last j = (not (same_type k VariableDeclaration) || i == 0) && ((is_boundary k && not (i == 0)) || not (is_enclosed j))

entries-fit : (k : AstType) → entries_fit inside k 0 (child_entries k) ≡ true
entries-fit Program = refl
entries-fit _ = refl

elements-fit : (k : AstType) (p : ElementsPlace) → elements_of (child_entries k) ≡ Some p → ElementsFit inside k p
elements-fit ArrayExpression p e = elements-are inside ArrayExpression _ p e (record { sort = λ i b. refl; last = λ i b. refl })
elements-fit ArrayPattern p e = elements-are inside ArrayPattern _ p e (record { sort = λ i b. refl; last = λ i b. refl })
elements-fit ArrayTarget p e = elements-are inside ArrayTarget _ p e (record { sort = λ i b. refl; last = λ i b. refl })
elements-fit _ p e = absurd (cc e)

pub inside-table : TableFits inside
inside-table = record { entries = entries-fit; elements = elements-fit }

pub not-true : (b : Bool) → not b ≡ true → b ≡ false
not-true true e = absurd (cc e)
not-true false e = refl

-- below a function's name
pub sealed-function : (l : Label) (all : Fields) (i : ℕ) (up : List Ancestor) → Sealed (above FunctionDeclaration l all (suc i) 0 ∷ up)
sealed-function l all i up = record { bound = bound i; declaration = λ x. tt; private = λ x. free-private (above FunctionDeclaration l all (suc i) 0) up x (λ c. absurd (cc c)); scoped = (refl, tt); first = refl }
  where
    bound : (i : ℕ) (x : Text) → Free (bound_names (above FunctionDeclaration l all (suc i) 0 ∷ up) x)
    bound zero x = (refl, (refl, tt))
    bound (suc i) x = let e : bound_names (above FunctionDeclaration l all (suc (suc i)) 0 ∷ up) x ≡ [] = rw (one-zero (suc i), two-one i) in subst (λ (ns : List Name). Free ns) (sym e) tt

-- PLACES among fields

pub from-none : (j : ℕ) → 0 + j ≡ j
from-none j = omega arith

pub later : (i j : ℕ) → suc i + j ≡ i + suc j
later i j = omega arith

-- NAMES THAT PASS

module _ (ok : Text → Bool) where
  -- where a scope that is looked at binds a name and not lexically
  abbrev pub Fine : Name → Type 0
  Fine n = is_scope_space n.namespace ≡ true → n.lexical ≡ false → is_owned n ≡ true → ok n.text ≡ true

  abbrev pub AllFine : List Name → Type 0
  AllFine [] = Unit {0}
  AllFine (n ∷ ns) = Fine n × AllFine ns

  abbrev pub EachFine : List (List Name) → Type 0
  EachFine [] = Unit {0}
  EachFine (g ∷ gs) = AllFine g × EachFine gs

  abbrev pub AllOk : List Bound → Type 0
  AllOk [] = Unit {0}
  AllOk (b ∷ bs) = (ok b.name ≡ true) × AllOk bs

  pub ok-left : (bs cs : List Bound) → AllOk (bs ++ cs) → AllOk bs
  ok-left [] cs h = tt
  ok-left (b ∷ bs) cs h = (h.0, ok-left bs cs h.1)

  pub ok-right : (bs cs : List Bound) → AllOk (bs ++ cs) → AllOk cs
  ok-right [] cs h = h
  ok-right (b ∷ bs) cs h = ok-right bs cs h.1

  fine-append : (xs ys : List Name) → AllFine xs → AllFine ys → AllFine (xs ++ ys)
  fine-append [] ys h k = k
  fine-append (x ∷ xs) ys h k = (h.0, fine-append xs ys h.1 k)

  pub each-append : (xs ys : List (List Name)) → EachFine xs → EachFine ys → EachFine (xs ++ ys)
  each-append [] ys h k = k
  each-append (x ∷ xs) ys h k = (h.0, each-append xs ys h.1 k)

  fine-where : (b : Bool) (xs ys : List Name) → (b ≡ true → AllFine xs) → (b ≡ false → AllFine ys) → AllFine (if b then xs else ys)
  fine-where true xs ys h k = h refl
  fine-where false xs ys h k = k refl

  fine-none : (ns : List Name) → ns ≡ [] → AllFine ns
  fine-none ns e = subst (λ (ms : List Name). AllFine ms) (sym e) tt

  fine-first : (ns : List ℕ) (x : Text) (b : Bool) → (b ≡ false → ok x ≡ true) → AllFine (names_in_scope ns x b)
  fine-first [] x b h = tt
  fine-first (n ∷ ns) x b h = (λ s e o. h e, tt)

  fine-lexical : (ns : List ℕ) (x : Text) → AllFine (names_in_scope ns x true)
  fine-lexical ns x = fine-first ns x true (λ e. absurd (cc e))

  fine-vars : (ns : List ℕ) (x : Text) → ok x ≡ true → AllFine (map (λ n. name Scope n x false) ns)
  fine-vars [] x h = tt
  fine-vars (n ∷ ns) x h = (λ s e o. h, fine-vars ns x h)

  fine-export : (b : Bool) (x : Text) → AllFine (if b then export_name x else [])
  fine-export b x = fine-where b (export_name x) [] (λ d. (λ s e o. absurd (cc s), tt)) (λ d. tt)

  fine-exports : (up : List Ancestor) (x : Text) → AllFine (exports_of up x)
  fine-exports up x = fine-export (stands_in ExportNamedDeclaration 0 up) x

  fine-exported : (up : List Ancestor) (x : Text) → AllFine (exported_names up x)
  fine-exported up x = fine-export (stands_in ExportSpecifier 1 up || stands_in ExportAllDeclaration 0 up) x

  -- names of other spaces
  fine-other : (ns : List Name) → AllUsed (λ x. false) ns → AllFine ns
  fine-other [] h = tt
  fine-other (n ∷ ns) h = (λ s e o. absurd (no (is_scope_space n.namespace) s h.0), fine-other ns h.1)
    where
      no : (b : Bool) → b ≡ true → (not b || false) ≡ true → ⊥
      no true e d = absurd (cc d)
      no false e d = absurd (cc e)

  fine-either : (b : Bool) (xs ys : List Name) → AllFine xs → AllFine ys → AllFine (cond b xs ys)
  fine-either true xs ys h k = h
  fine-either false xs ys h k = k

  fine-filter : (ns : List Name) → AllFine ns → AllFine (filter is_owned ns)
  fine-filter [] h = tt
  fine-filter (n ∷ ns) h = fine-either (is_owned n) (n ∷ filter is_owned ns) (filter is_owned ns) (h.0, fine-filter ns h.1) (fine-filter ns h.1)

  fine-push : (g : List Name) (gs : List (List Name)) → AllFine g → EachFine gs → EachFine (push g gs)
  fine-push [] gs h k = k
  fine-push (n ∷ g) gs h k = (h, k)

  -- PLACES AND ROLES

  abbrev May : Role → Text → Type 0
  May r x = is_asked true r ≡ true → ok x ≡ true

  -- what this role declares by `var` passes, and so do then the names by these ancestors
  pub record Roled (up : List Ancestor) (r : Role) : Type 0 where
    pub bound : (x : Text) → May r x → AllFine (bound_names up x)
    pub declaration : (x : Text) → May r x → AllFine (declaration_names up x)
    pub functions : (x : Text) → May (Binds (function_binding r)) x → AllFine (function_names up x)

  -- fields that are looked into
  abbrev goes : AstType → ℕ → Bool
  goes Program i = false
  goes FunctionBody i = false
  goes StaticBlock i = false
  goes FunctionExpression i = false
  goes ArrowFunctionExpression i = false
  goes FunctionDeclaration (suc i) = false
  goes VariableDeclaration (suc i) = false
  goes k i = true

  module _ (up : List Ancestor) (r : Role) (h : Roled up r) (l : Label) (fs : Fields) where
    bound-in : (k : AstType) (i : ℕ) → goes k i ≡ true → (x : Text) → May (role_at r k l fs i) x → AllFine (bound_names (above k l fs i 0 ∷ up) x)
    bound-in VariableDeclarator zero e x m = h.declaration x m
    bound-in VariableDeclarator (suc i) e x m = fine-none (bound_names (above VariableDeclarator l fs (suc i) 0 ∷ up) x) (rw (one-zero i))
    bound-in FunctionDeclaration zero e x m = fine-append (function_names up x) (exports_of up x) (h.functions x m) (fine-exports up x)
    bound-in FunctionDeclaration (suc i) e x m = absurd (cc e)
    bound-in FunctionExpression i e x m = absurd (cc e)
    bound-in ArrowFunctionExpression i e x m = absurd (cc e)
    bound-in ClassDeclaration zero e x m = fine-append (lexical_names up x) (exports_of up x) (fine-lexical (scopes up) x) (fine-exports up x)
    bound-in ClassDeclaration (suc i) e x m = fine-none (bound_names (above ClassDeclaration l fs (suc i) 0 ∷ up) x) (rw (one-zero i))
    bound-in CatchClause zero e x m = (λ s d o. absurd (cc o), tt)
    bound-in CatchClause (suc i) e x m = fine-none (bound_names (above CatchClause l fs (suc i) 0 ∷ up) x) (rw (one-zero i))
    bound-in ImportSpecifier zero e x m = tt
    bound-in ImportSpecifier (suc zero) e x m = fine-lexical (scopes up) x
    bound-in ImportSpecifier (suc (suc i)) e x m = fine-none (bound_names (above ImportSpecifier l fs (suc (suc i)) 0 ∷ up) x) (rw (two-one i))
    bound-in ImportDefaultSpecifier zero e x m = fine-lexical (scopes up) x
    bound-in ImportDefaultSpecifier (suc i) e x m = fine-none (bound_names (above ImportDefaultSpecifier l fs (suc i) 0 ∷ up) x) (rw (one-zero i))
    bound-in ImportNamespaceSpecifier zero e x m = fine-lexical (scopes up) x
    bound-in ImportNamespaceSpecifier (suc i) e x m = fine-none (bound_names (above ImportNamespaceSpecifier l fs (suc i) 0 ∷ up) x) (rw (one-zero i))
    bound-in ObjectPattern zero e x m = h.bound x m
    bound-in ObjectPattern (suc i) e x m = fine-none (bound_names (above ObjectPattern l fs (suc i) 0 ∷ up) x) (rw (one-zero i))
    bound-in PatternProperty zero e x m = tt
    bound-in PatternProperty (suc zero) e x m = h.bound x m
    bound-in PatternProperty (suc (suc i)) e x m = fine-none (bound_names (above PatternProperty l fs (suc (suc i)) 0 ∷ up) x) (rw (two-one i))
    bound-in ArrayPattern i e x m = h.bound x m
    bound-in AssignmentPattern zero e x m = h.bound x m
    bound-in AssignmentPattern (suc i) e x m = fine-none (bound_names (above AssignmentPattern l fs (suc i) 0 ∷ up) x) (rw (one-zero i))
    bound-in RestElement zero e x m = h.bound x m
    bound-in RestElement (suc i) e x m = fine-none (bound_names (above RestElement l fs (suc i) 0 ∷ up) x) (rw (one-zero i))
    bound-in _ i e x m = tt

    by-var : (b : Bool) → not b ≡ false → hoists (if b then Variable else if bytes_eq (first_text l.texts) (codes "let") then Let else Constant) ≡ true
    by-var true e = refl
    by-var false e = absurd (cc e)

    declaration-in : (k : AstType) (i : ℕ) → goes k i ≡ true → (x : Text) → May (role_at r k l fs i) x → AllFine (declaration_names (above k l fs i 0 ∷ up) x)
    declaration-in VariableDeclaration zero e x m =
        fine-append (if is_lexical (first_text l.texts) then lexical_names up x else var_names up x) (exports_of up x)
        (fine-where (is_lexical (first_text l.texts)) (lexical_names up x) (var_names up x) (λ d. fine-lexical (scopes up) x) (λ d. fine-vars (scopes up) x (m (by-var (bytes_eq (first_text l.texts) (codes "var")) d))))
        (fine-exports up x)
    declaration-in VariableDeclaration (suc i) e x m = absurd (cc e)
    declaration-in _ i e x m = tt

    not-top : (k : AstType) (i : ℕ) → goes k i ≡ true → is_at_top (above k l fs i 0 ∷ up) ≡ false
    not-top Program i e = absurd (cc e)
    not-top FunctionBody i e = absurd (cc e)
    not-top StaticBlock i e = absurd (cc e)
    not-top _ i e = refl

    roled-in : (k : AstType) (i : ℕ) → goes k i ≡ true → Roled (above k l fs i 0 ∷ up) (role_at r k l fs i)
    roled-in k i e = record { bound = bound-in k i e; declaration = declaration-in k i e; functions = λ x m. fine-first (scopes (above k l fs i 0 ∷ up)) x (not (is_at_top (above k l fs i 0 ∷ up))) (λ d. absurd (let q = not-top k i e in cc (d, q))) }

  -- A FIELD: nothing in it is the scope's; or it is looked into; or nothing stands in it
  data PartOf (k : AstType) (i : ℕ) (vs : List Ancestor) (counts : Bool) (r : Role) : Type 0 where
    sealed : Sealed vs → PartOf k i vs counts r
    open_part : counts ≡ true → ((last : Bool) (j : AstType) → inside k i last j ≡ true → is_enclosed j ≡ false) → Roled vs r → PartOf k i vs counts r
    no_part : ((last : Bool) (j : AstType) → inside k i last j ≡ true → ⊥) → PartOf k i vs counts r

  part-of : (up : List Ancestor) (r : Role) (k : AstType) (l : Label) (fs : Fields) (i : ℕ) → is_enclosed k ≡ false → Roled up r → PartOf k i (above k l fs i 0 ∷ up) (reaches_out true k i) (role_at r k l fs i)
  part-of up r Program l fs i e h = absurd (cc e)
  part-of up r FunctionBody l fs i e h = absurd (cc e)
  part-of up r StaticBlock l fs i e h = sealed (sealed-boundary StaticBlock l fs i up refl refl)
  part-of up r FunctionExpression l fs i e h = sealed (sealed-boundary FunctionExpression l fs i up refl refl)
  part-of up r ArrowFunctionExpression l fs i e h = sealed (sealed-boundary ArrowFunctionExpression l fs i up refl refl)
  part-of up r FunctionDeclaration l fs zero e h = open_part refl (λ last j d. not-true (is_enclosed j) d) (roled-in up r h l fs FunctionDeclaration zero refl)
  part-of up r FunctionDeclaration l fs (suc i) e h = sealed (sealed-function l fs i up)
  part-of up r VariableDeclaration l fs zero e h = open_part refl (λ last j d. not-true (is_enclosed j) d) (roled-in up r h l fs VariableDeclaration zero refl)
  part-of up r VariableDeclaration l fs (suc i) e h = no_part (λ last j d. absurd (cc (d, one-zero i)))
  part-of up r k l fs i e h = open_part refl (λ last j d. not-true (is_enclosed j) d) (roled-in up r h l fs k i refl)

  -- WHAT TREES DECLARE

  own-fine : (up : List Ancestor) (r : Role) (k : AstType) (l : Label) (fs : Fields) → Roled up r → AllOk (own_declared true r k l) → AllFine (names_of up (node k l fs))
  own-fine up r Identifier l fs h d = fine-append (bound_names up (first_text l.texts)) (exported_names up (first_text l.texts)) (h.bound (first_text l.texts) (λ e. at (is_asked true r) e d)) (fine-exported up (first_text l.texts))
    where
      at : (b : Bool) → b ≡ true → AllOk (if b then record { name = first_text l.texts; symbol = symbol_of l } ∷ [] else []) → ok (first_text l.texts) ≡ true
      at true e h = h.0
      at false e h = absurd (cc e)
  own-fine up r StringLiteral l fs h d = fine-exported up (first_text l.texts)
  own-fine up r PrivateIdentifier l fs h d = fine-other _ (used-private (λ x. false) up (first_text l.texts))
  own-fine up r MethodDefinition l fs h d = fine-other _ (used-constructor (λ x. false) up (first_text l.texts))
  own-fine up r ExportDefaultDeclaration l fs h d = (λ s e o. absurd (cc s), tt)
  own-fine up r _ l fs h d = tt

  mutual
    pub tree-fine : (up : List Ancestor) (r : Role) (t : Tree) → Roled up r → is_enclosed (kind_of t) ≡ false → EdgesIn inside (kind_of t) 0 (fields_of t) → AllOk (declared true r t) → EachFine (claims is_owned up t)
    tree-fine up r (node k l fs) h e s d =
        fine-push (filter is_owned (names_of up (node k l fs))) (claims_in is_owned up k l fs 0 0 fs) (fine-filter (names_of up (node k l fs)) (own-fine up r k l fs h (ok-left (own_declared true r k l) (declared_in true (reaches_out true k) (role_at r k l fs) fs) d)))
        (fields-fine up k l fs 0 fs (reaches_out true k) (role_at r k l fs) (λ j n g. subst (λ (m : ℕ). PartOf k m (above k l fs m 0 ∷ up) (reaches_out true k j) (role_at r k l fs j)) (sym (g ∙ from-none j)) (part-of up r k l fs j e h)) s (ok-right (own_declared true r k l) (declared_in true (reaches_out true k) (role_at r k l fs) fs) d))

    fields-fine : (up : List Ancestor) (k : AstType) (l : Label) (all : Fields) (i : ℕ) (fs : Fields) (counts : ℕ → Bool) (roles : ℕ → Role) → ((j n : ℕ) → n ≡ i + j → PartOf k n (above k l all n 0 ∷ up) (counts j) (roles j)) → EdgesIn inside k i fs → AllOk (declared_in true counts roles fs) → EachFine (claims_in is_owned up k l all 0 i fs)
    fields-fine up k l all i done counts roles p s d = tt
    fields-fine up k l all i (f then fs) counts roles p s d =
        each-append (claims_by is_owned (above k l all i 0 ∷ up) f) (claims_in is_owned up k l all 0 (suc i) fs)
        (field-fine k i (above k l all i 0 ∷ up) (is_last fs) f (counts zero) (roles zero) (p zero i (omega arith)) s.0 (ok-left (if counts zero then declared_by true (roles zero) f else []) _ d))
        (fields-fine up k l all (suc i) fs (λ j. counts (suc j)) (λ j. roles (suc j)) (λ j n e. p (suc j) n (e ∙ later i j)) s.1 (ok-right (if counts zero then declared_by true (roles zero) f else []) _ d))

    field-fine : (k : AstType) (i : ℕ) (vs : List Ancestor) (last : Bool) (f : Field) (counts : Bool) (r : Role) → PartOf k i vs counts r → EdgesBy inside k i last f → AllOk (if counts then declared_by true r f else []) → EachFine (claims_by is_owned vs f)
    field-fine k i vs last f counts r (sealed h) s d = subst (λ (gs : List (List Name)). EachFine gs) (sym (sealed-field vs f h)) tt
    field-fine k i vs last missing counts r (open_part e q h) s d = tt
    field-fine k i vs last (one (node j m gs)) counts r (open_part e q h) s d = tree-fine vs r (node j m gs) h (q last j s.0) s.1 (subst (λ (b : Bool). AllOk (if b then declared true r (node j m gs) else [])) e d)
    field-fine k i vs last (many ts) counts r (open_part e q h) s d = trees-fine k i vs ts r (q false) h s (subst (λ (b : Bool). AllOk (if b then declared_among true r ts else [])) e d)
    field-fine k i vs last (statements ts) counts r (open_part e q h) s d = trees-fine k i vs ts r (q false) h s (subst (λ (b : Bool). AllOk (if b then declared_among true r ts else [])) e d)
    field-fine k i vs last missing counts r (no_part q) s d = tt
    field-fine k i vs last (one (node j m gs)) counts r (no_part q) s d = absurd (q last j s.0)
    field-fine k i vs last (many empty) counts r (no_part q) s d = tt
    field-fine k i vs last (many (node j m gs before ts)) counts r (no_part q) s d = absurd (q false j s.0.0)
    field-fine k i vs last (statements empty) counts r (no_part q) s d = tt
    field-fine k i vs last (statements (node j m gs before ts)) counts r (no_part q) s d = absurd (q false j s.0.0)

    trees-fine : (k : AstType) (i : ℕ) (vs : List Ancestor) (ts : Trees) (r : Role) → ((j : AstType) → inside k i false j ≡ true → is_enclosed j ≡ false) → Roled vs r → EdgesAll inside k i ts → AllOk (declared_among true r ts) → EachFine (claims_all is_owned vs ts)
    trees-fine k i vs empty r q h s d = tt
    trees-fine k i vs (node j m gs before ts) r q h s d =
        each-append (claims is_owned vs (node j m gs)) (claims_all is_owned vs ts) (tree-fine vs r (node j m gs) h (q j s.0.0) s.0.1 (ok-left (declared true r (node j m gs)) (declared_among true r ts) d)) (trees-fine k i vs ts r q h s.1 (ok-right (declared true r (node j m gs)) (declared_among true r ts) d))
