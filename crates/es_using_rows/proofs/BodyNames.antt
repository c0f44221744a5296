-- What statements declare by their roles, by `var` or otherwise, is among what the scope around them declares by the static rules: so a name that
-- is declared by `var` and otherwise clashes.
use Rattle.std.proofs.Common.{◌≡◌, ◌+◌, ℕ, zero, suc, inl, inr, refl, sym, ap, subst, ◌∙◌, List, [], ◌∷◌, ◌++◌, append-nil, filter, map, cond, arith}
use Rattle.std.specs.Prelude.{◌⊎◌, Bool, true, false, not, ◌&&◌, ◌||◌, Some, bytes_eq, codes, if◌then◌else◌}
use Rattle.std.specs.List.{list_any}
use Rattle.std.proofs.lemmas.Bool.{and_parts}
use Rattle.es_tree.specs.Ancestors.{Ancestor, is_boundary, is_scope, scopes, stands_in}
use Rattle.es_tree.specs.Attributes.{child_entries}
use Rattle.es_tree.specs.DeclaredNames.{Name, bound_names, clashes, declaration_names, declared as names_of, exported_names, exports_of, function_names, is_at_top, lexical_names, name, names_in_scope, var_names}
use Rattle.es_tree.specs.HasForm.{ElementsPlace, elements_of, field_form, fields_form, has_form, is_of_sort, same_type, trees_form}
use Rattle.es_tree.specs.Names.{first_text, is_name_place, third_stands}
use Rattle.es_tree.specs.Tree.{Tree, node, Label, Fields, done, ◌then◌, Field, missing, one, many, statements, Trees, empty, ◌before◌, kind_of, fields_of}
use Rattle.es_tree.specs.Words.{Text}
use Rattle.es_tree.specs.declared.ast_type.AstType.{AstType}
use Rattle.es_tree.specs.declared.ast_type.AstType.TheVariants.{ArrayExpression, ArrayPattern, ArrayTarget, ArrowFunctionExpression, AssignmentExpression, AssignmentPattern, BlockStatement, CatchClause, ClassDeclaration, ClassExpression, ExportDefaultDeclaration, ExportNamedDeclaration, ExportSpecifier, ForInStatement, ForOfStatement, ForStatement, FunctionBody, FunctionDeclaration, FunctionExpression, Identifier, ImportDefaultSpecifier, ImportNamespaceSpecifier, ImportSpecifier, MethodDefinition, ObjectPattern, ObjectTarget, ParenthesizedExpression, PatternProperty, Program, RestElement, StaticBlock, SwitchStatement, TargetProperty, TargetRest, TargetWithDefault, UpdateExpression, VariableDeclaration, VariableDeclarator}
use Rattle.es_tree.specs.declared.place.Namespace.TheVariants.{Scope}
use Rattle.es_tree.specs.declared.table.Content.TheVariants.{Child as c-Child}
use Rattle.es_tree.specs.declared.table.Entry.{Entry}
use Rattle.es_tree.specs.declared.table.Often.TheVariants.{Optional}
use Rattle.es_tree.specs.declared.table.Sort.{Sort}
use Rattle.es_tree.specs.declared.table.Sort.TheVariants.{Expression as s-Expression, FunctionBody as s-FunctionBody, Identifier as s-Identifier, Pattern as s-Pattern, PatternRest as s-PatternRest}
use Rattle.es_tree.proofs.NodeForm.{NodeForm, has_form-node, node_form}
use Rattle.es_semantic.specs.RolesOf.{function_binding, member_role, reads, role_at}
use Rattle.es_semantic.specs.declared.place.Binding.TheVariants.{CatchParameter, Class, Constant, Import, Let, Parameter, TopFunction, Variable}
use Rattle.es_semantic.specs.declared.place.Role.{Role}
use Rattle.es_semantic.specs.declared.place.Role.TheVariants.{Binds, Constructor, Member, Nothing, Top}
use Rattle.es_semantic.proofs.DeclaredRoles.{is_pattern}
use Rattle.es_semantic.proofs.FormEdges.{EdgesAll, EdgesBy, EdgesIn, ElementsFit, TableFits, elements-are, entries_fit, is_last, same-kind}
use Rattle.es_resolution.specs.Declarations.{Bound, declared, declared_among, declared_by, declared_in, is_asked, own_declared, reaches_out, symbol_of}
use Rattle.es_resolution.proofs.AllForms.{All, AllAmong, AllBy, AllIn}
use Rattle.es_resolution.proofs.Basics.{bytes_eq-self}
use Rattle.es_resolution.proofs.Declares.{declared-none}
use Rattle.es_steps.specs.ParameterPatterns.{IsFunctionName}
use Rattle.es_steps.specs.ParameterPatterns.IsFunctionName.{named, nameless}
use Rattle.es_changes.proofs.Expressions.{declares-none, law_expression_proof}
use Rattle.es_valid_names.proofs.Claims.{Distinct, above, claims, claims_all, claims_by, claims_in, is_owned, push}
use Rattle.es_valid_names.proofs.Grown.{left-none, right-none}
use Rattle.es_valid_names.proofs.Visited.{push-append}
use Rattle.es_valid_using.proofs.UsingVars.{from-none, later as later-field}

-- NAMES that the scope which is looked at binds: lexically for sure, or in any way

pub data NamedIn (x : Text) (sure : Bool) : List Name → Type 0 where
  now : {n : Name} {ns : List Name} (v : Bool) → n ≡ name Scope 1 x v → (sure ≡ true → v ≡ true) → NamedIn x sure (n ∷ ns)
  after : {n : Name} {ns : List Name} → NamedIn x sure ns → NamedIn x sure (n ∷ ns)

pub data NamedAmong (x : Text) (sure : Bool) : List (List Name) → Type 0 where
  in_first : {g : List Name} {gs : List (List Name)} → NamedIn x sure g → NamedAmong x sure (g ∷ gs)
  in_rest : {g : List Name} {gs : List (List Name)} → NamedAmong x sure gs → NamedAmong x sure (g ∷ gs)

named-before : {x : Text} {sure : Bool} {ns : List Name} (ms : List Name) → NamedIn x sure ns → NamedIn x sure (ns ++ ms)
named-before ms (now v e s) = now v e s
named-before ms (after h) = after (named-before ms h)

named-behind : {x : Text} {sure : Bool} {ns : List Name} (ms : List Name) → NamedIn x sure ns → NamedIn x sure (ms ++ ns)
named-behind [] h = h
named-behind (m ∷ ms) h = after (named-behind ms h)

among-before : {x : Text} {sure : Bool} {gs : List (List Name)} (hs : List (List Name)) → NamedAmong x sure gs → NamedAmong x sure (gs ++ hs)
among-before hs (in_first h) = in_first h
among-before hs (in_rest h) = in_rest (among-before hs h)

among-behind : {x : Text} {sure : Bool} {gs : List (List Name)} (hs : List (List Name)) → NamedAmong x sure gs → NamedAmong x sure (hs ++ gs)
among-behind [] h = h
among-behind (g ∷ hs) h = in_rest (among-behind hs h)

named-owned : {x : Text} {sure : Bool} {ns : List Name} → NamedIn x sure ns → NamedIn x sure (filter is_owned ns)
named-owned {x} {sure} (now {n = n} {ns = ns} v e s) = subst (λ (m : Name). NamedIn x sure (cond (is_owned m) (m ∷ filter is_owned ns) (filter is_owned ns))) (sym e) (now v refl s)
named-owned {x} {sure} (after {n = n} {ns = ns} h) = at (is_owned n) (named-owned h)
  where
    at : (b : Bool) → NamedIn x sure (filter is_owned ns) → NamedIn x sure (cond b (n ∷ filter is_owned ns) (filter is_owned ns))
    at true k = after k
    at false k = k

named-pushed : {x : Text} {sure : Bool} {g : List Name} (gs : List (List Name)) → NamedIn x sure g → NamedAmong x sure (push g gs)
named-pushed gs (now v e s) = in_first (now v e s)
named-pushed gs (after h) = in_first (after h)

among-pushed : {x : Text} {sure : Bool} (g : List Name) {gs : List (List Name)} → NamedAmong x sure gs → NamedAmong x sure (push g gs)
among-pushed [] h = h
among-pushed (n ∷ g) h = in_rest h

-- CLASHES

abbrev pub Clashing : List (List Name) → Type 0
Clashing gs = (used : Text → Bool) (earlier : List Name) → Distinct used earlier gs → ⊥

distinct-before : (used : Text → Bool) (gs hs : List (List Name)) (e : List Name) → Distinct used e (gs ++ hs) → Distinct used e gs
distinct-before used [] hs e d = tt
distinct-before used (g ∷ gs) hs e d = (d.0, d.1, distinct-before used gs hs (g ++ e) d.2)

pub clash-before : (gs hs : List (List Name)) → Clashing gs → Clashing (gs ++ hs)
clash-before gs hs c = λ used e d. c used e (distinct-before used gs hs e d)

pub clash-behind : (gs hs : List (List Name)) → Clashing hs → Clashing (gs ++ hs)
clash-behind [] hs c = c
clash-behind (g ∷ gs) hs c = λ used e d. clash-behind gs hs c used (g ++ e) d.2

clash-pushed : (g : List Name) (gs : List (List Name)) → Clashing gs → Clashing (push g gs)
clash-pushed [] gs c = c
clash-pushed (n ∷ g) gs c = λ used e d. c used ((n ∷ g) ++ e) d.2

either-true : (a v w : Bool) → (a || v) ≡ true → (a ≡ true → w ≡ true) → (w || v) ≡ true
either-true true v w h s = λ i. s refl i || v
either-true false true true h s = refl
either-true false true false h s = refl
either-true false false w h s = absurd (cc h)

or-behind : (a b : Bool) → b ≡ true → (a || b) ≡ true
or-behind true b e = refl
or-behind false b e = e

clash-here : (x : Text) (a v : Bool) (e : List Name) → NamedIn x a e → (a || v) ≡ true → clashes e (name Scope 1 x v) ≡ true
clash-here x a v [] m h = elim m [ ]
clash-here x a v (n ∷ e) (now w p s) h = subst (λ (m : Name). clashes (m ∷ e) (name Scope 1 x v) ≡ true) (sym p) (λ i. (bytes_eq-self x i && either-true a v w h s i) || clashes e (name Scope 1 x v))
clash-here x a v (n ∷ e) (after m) h = or-behind _ (clashes e (name Scope 1 x v)) (clash-here x a v e m h)

clash-group : (x : Text) (a b : Bool) (e g : List Name) → (a || b) ≡ true → NamedIn x a e → NamedIn x b g → list_any (λ n. clashes e n) g ≡ false → ⊥
clash-group x a b e [] h m q d = elim q [ ]
clash-group x a b e (n ∷ g) h m (now v p s) d =
    let here : clashes e n ≡ true = subst (λ (k : Name). clashes e k ≡ true) (sym p) (clash-here x a v e m (at a b h s)) in
    absurd (cc (here, left-none (clashes e n) (list_any (λ n. clashes e n) g) d))
  where
    at : (a b : Bool) → (a || b) ≡ true → (b ≡ true → v ≡ true) → (a || v) ≡ true
    at true b h s = refl
    at false b h s = s h
clash-group x a b e (n ∷ g) h m (after q) d = clash-group x a b e g h m q (right-none (clashes e n) (list_any (λ n. clashes e n) g) d)

clash-later : (x : Text) (a b : Bool) (used : Text → Bool) (e : List Name) (gs : List (List Name)) → (a || b) ≡ true → NamedIn x a e → NamedAmong x b gs → Distinct used e gs → ⊥
clash-later x a b used e [] h m q d = elim q [ ]
clash-later x a b used e (g ∷ gs) h m (in_first q) d = clash-group x a b e g h m q d.0
clash-later x a b used e (g ∷ gs) h m (in_rest q) d = clash-later x a b used (g ++ e) gs h (named-behind g m) q d.2

clash-both : (x : Text) (a b : Bool) (gs hs : List (List Name)) → (a || b) ≡ true → NamedAmong x a gs → NamedAmong x b hs → Clashing (gs ++ hs)
clash-both x a b [] hs h q r = elim q [ ]
clash-both x a b (g ∷ gs) hs h (in_first q) r = λ used e d. clash-later x a b used (g ++ e) (gs ++ hs) h (named-before e q) (among-behind gs r) d.2
clash-both x a b (g ∷ gs) hs h (in_rest q) r = λ used e d. clash-both x a b gs hs h q r used (g ++ e) d.2

-- WHAT IS DECLARED is among these lists: by `var` these, and otherwise those, where the scope is the innermost

pub data Held (b : Bound) : List Bound → Type 0 where
  found : {c : Bound} {bs : List Bound} → c ≡ b → Held b (c ∷ bs)
  further : {c : Bound} {bs : List Bound} → Held b bs → Held b (c ∷ bs)

held-either : (b : Bound) (xs ys : List Bound) → Held b (xs ++ ys) → Held b xs ⊎ Held b ys
held-either b [] ys h = inr h
held-either b (x ∷ xs) ys (found e) = inl (found e)
held-either b (x ∷ xs) ys (further h) = at (held-either b xs ys h)
  where
    at : Held b xs ⊎ Held b ys → Held b (x ∷ xs) ⊎ Held b ys
    at (inl h) = inl (further h)
    at (inr h) = inr h

held-none : (b : Bound) → Held b [] → ⊥
held-none b h = elim h [ ]

held-where : (c : Bool) (b : Bound) (bs : List Bound) → Held b (if c then bs else []) → (c ≡ true) × Held b bs
held-where true b bs h = (refl, h)
held-where false b bs h = absurd (held-none b h)

pub record Covered (b : Bool) (gs : List (List Name)) (vs ls : List Bound) : Type 0 where
  pub vars : (x : Bound) → Held x vs → NamedAmong x.name false gs
  pub lexicals : b ≡ true → (x : Bound) → Held x ls → NamedAmong x.name true gs
  pub apart : b ≡ true → (x y : Bound) → Held x vs → Held y ls → x.name ≡ y.name → Clashing gs

covered-none : (b : Bool) (gs : List (List Name)) → Covered b gs [] []
covered-none b gs = record { vars = λ x h. absurd (held-none x h); lexicals = λ e x h. absurd (held-none x h); apart = λ e x y h k q. absurd (held-none x h) }

covered-quiet : (b : Bool) (gs : List (List Name)) (vs ls : List Bound) → vs ≡ [] → ls ≡ [] → Covered b gs vs ls
covered-quiet b gs vs ls e d = subst (λ (xs : List Bound). Covered b gs xs ls) (sym e) (subst (λ (xs : List Bound). Covered b gs [] xs) (sym d) (covered-none b gs))

module _ (b : Bool) (gs hs : List (List Name)) (vs us ls ks : List Bound) (c : Covered b gs vs ls) (d : Covered b hs us ks) where
  both-vars : (x : Bound) → Held x vs ⊎ Held x us → NamedAmong x.name false (gs ++ hs)
  both-vars x (inl h) = among-before hs (c.vars x h)
  both-vars x (inr h) = among-behind gs (d.vars x h)

  both-lexicals : b ≡ true → (x : Bound) → Held x ls ⊎ Held x ks → NamedAmong x.name true (gs ++ hs)
  both-lexicals e x (inl h) = among-before hs (c.lexicals e x h)
  both-lexicals e x (inr h) = among-behind gs (d.lexicals e x h)

  both-apart : b ≡ true → (x y : Bound) → Held x vs ⊎ Held x us → Held y ls ⊎ Held y ks → x.name ≡ y.name → Clashing (gs ++ hs)
  both-apart e x y (inl h) (inl k) q = clash-before gs hs (c.apart e x y h k q)
  both-apart e x y (inr h) (inr k) q = clash-behind gs hs (d.apart e x y h k q)
  both-apart e x y (inl h) (inr k) q = clash-both y.name false true gs hs refl (subst (λ (z : Text). NamedAmong z false gs) q (c.vars x h)) (d.lexicals e y k)
  both-apart e x y (inr h) (inl k) q = clash-both y.name true false gs hs refl (c.lexicals e y k) (subst (λ (z : Text). NamedAmong z false hs) q (d.vars x h))

  covered-both : Covered b (gs ++ hs) (vs ++ us) (ls ++ ks)
  covered-both = record {
    vars = λ x h. both-vars x (held-either x vs us h);
    lexicals = λ e x h. both-lexicals e x (held-either x ls ks h);
    apart = λ e x y h k q. both-apart e x y (held-either x vs us h) (held-either y ls ks k) q;
  }

covered-pushed : (b : Bool) (g : List Name) (gs : List (List Name)) (vs ls : List Bound) → Covered b gs vs ls → Covered b (push g gs) vs ls
covered-pushed b g gs vs ls c = record { vars = λ x h. among-pushed g (c.vars x h); lexicals = λ e x h. among-pushed g (c.lexicals e x h); apart = λ e x y h k q. clash-pushed g gs (c.apart e x y h k q) }

and-both : (a b : Bool) → a ≡ true → b ≡ true → (a && b) ≡ true
and-both a b e d = λ i. e i && d i

-- a field, whose declarations count or not
covered-where : (b v c : Bool) (gs : List (List Name)) (vs ls : List Bound) → Covered (b && c) gs vs ls → Covered b gs (if v then vs else []) (if c then ls else [])
covered-where b v c gs vs ls h = record {
  vars = λ x q. h.vars x (held-where v x vs q).1;
  lexicals = λ e x q. (let p = held-where c x ls q in h.lexicals (and-both b c e p.0) x p.1);
  apart = λ e x y q r s. (let p = held-where c y ls r in h.apart (and-both b c e p.0) x y (held-where v x vs q).1 p.1 s);
}

-- NUMBERS of scopes

pub data HasOne : List ℕ → Type 0 where
  at_first : {n : ℕ} {ns : List ℕ} → n ≡ 1 → HasOne (n ∷ ns)
  at_later : {n : ℕ} {ns : List ℕ} → HasOne ns → HasOne (n ∷ ns)

pub data IsFirst : List ℕ → Type 0 where
  is_first : {n : ℕ} {ns : List ℕ} → n ≡ 1 → IsFirst (n ∷ ns)

first-has : {ns : List ℕ} → IsFirst ns → HasOne ns
first-has (is_first e) = at_first e

named-first : {ns : List ℕ} → IsFirst ns → (x : Text) (sure v : Bool) → (sure ≡ true → v ≡ true) → NamedIn x sure (names_in_scope ns x v)
named-first (is_first e) x sure v s = now v (λ i. name Scope (e i) x v) s

named-var : {ns : List ℕ} → HasOne ns → (x : Text) → NamedIn x false (map (λ n. name Scope n x false) ns)
named-var (at_first e) x = now false (λ i. name Scope (e i) x false) (λ d. d)
named-var (at_later h) x = after (named-var h x)

-- PLACES

abbrev is_top : Role → Bool
is_top Top = true
is_top r = false

-- the scope that is looked at is around, and the innermost where other names than those of `var` count
pub record Shows (b : Bool) (up : List Ancestor) (r : Role) : Type 0 where
  pub around : HasOne (scopes up)
  pub first : b ≡ true → IsFirst (scopes up)
  pub top : is_top r ≡ true → IsFirst (scopes up)
  pub only_top : is_at_top up ≡ true → is_top r ≡ true

-- a name of this role is among these
abbrev Shown : Bool → (Text → List Name) → Role → Type 0
Shown b names r = (v : Bool) → (v || b) ≡ true → (x : Text) → is_asked v r ≡ true → NamedIn x (not v) (names x)

-- what a name in a node of this kind binds
pub record Placed (b : Bool) (up : List Ancestor) (r : Role) (k : AstType) : Type 0 where
  pub pattern : is_pattern k ≡ true → Shown b (bound_names up) r
  pub declarator : same_type k VariableDeclarator ≡ true → Shown b (declaration_names up) r
  pub other : is_pattern k ≡ false → same_type k VariableDeclarator ≡ false → (v : Bool) → is_asked v r ≡ false

not-both : (a : Bool) → a ≡ false → a ≡ true → ⊥
not-both a e d = absurd (cc (e, d))

pub unasked : {b : Bool} {up : List Ancestor} {r : Role} {j : AstType} → ((v : Bool) → is_asked v r ≡ false) → Placed b up r j
unasked {r = r} u = record { pattern = λ e v o x a. absurd (not-both (is_asked v r) (u v) a); declarator = λ e v o x a. absurd (not-both (is_asked v r) (u v) a); other = λ e d. u }

as-pattern : {b : Bool} {up : List Ancestor} {r : Role} (j : AstType) → is_pattern j ≡ true → Shown b (bound_names up) r → Placed b up r j
as-pattern j e h = record { pattern = λ d. h; declarator = λ d. absurd (let same = same-kind j VariableDeclarator d in cc (sym (ap is_pattern same) ∙ e)); other = λ d f. absurd (not-both (is_pattern j) d e) }

as-declarator : {b : Bool} {up : List Ancestor} {r : Role} (j : AstType) → same_type j VariableDeclarator ≡ true → Shown b (declaration_names up) r → Placed b up r j
as-declarator j e h = record { pattern = λ d. absurd (let same = same-kind j VariableDeclarator e in cc (sym (ap is_pattern same) ∙ d)); declarator = λ d. h; other = λ d f. absurd (not-both (same_type j VariableDeclarator) f e) }

narrow : (b c v : Bool) → (v || (b && c)) ≡ true → (v || b) ≡ true
narrow b c true e = refl
narrow true c false e = refl
narrow false c false e = e

-- FIELDS that are looked into: in a function, a body or a static block nothing is the scope's

abbrev goes : AstType → ℕ → Bool
goes Program i = false
goes FunctionBody i = false
goes StaticBlock i = false
goes FunctionExpression i = false
goes ArrowFunctionExpression i = false
goes FunctionDeclaration i = false
goes SwitchStatement zero = false
goes k i = true

-- patterns stand where names are bound, and declarators in a declaration
abbrev binds : AstType → ℕ → AstType → Bool
binds VariableDeclaration zero j = same_type j VariableDeclarator
binds VariableDeclarator zero j = is_pattern j
binds ClassDeclaration zero j = is_pattern j
binds ClassExpression zero j = is_pattern j
binds CatchClause zero j = is_pattern j
binds ImportSpecifier (suc zero) j = is_pattern j
binds ImportDefaultSpecifier zero j = is_pattern j
binds ImportNamespaceSpecifier zero j = is_pattern j
binds ObjectPattern zero j = is_pattern j
binds PatternProperty (suc zero) j = is_pattern j
binds ArrayPattern i j = is_pattern j
binds AssignmentPattern zero j = is_pattern j
binds RestElement zero j = is_pattern j
binds k i j = true

abbrev pub inside : AstType → ℕ → Bool → AstType → Bool
inside k i last j = binds k i j

entries-fit : (k : AstType) → entries_fit inside k 0 (child_entries k) ≡ true
entries-fit Program = refl
entries-fit _ = refl

elements-fit : (k : AstType) (p : ElementsPlace) → elements_of (child_entries k) ≡ Some p → ElementsFit inside k p
elements-fit ArrayExpression p e = elements-are inside ArrayExpression _ p e (record { sort = λ i b. refl; last = λ i b. refl })
elements-fit ArrayPattern p e = elements-are inside ArrayPattern _ p e (record { sort = λ i b. refl; last = λ i b. refl })
elements-fit ArrayTarget p e = elements-are inside ArrayTarget _ p e (record { sort = λ i b. refl; last = λ i b. refl })
elements-fit _ p e = absurd (cc e)

pub inside-table : TableFits inside
inside-table = record { entries = entries-fit; elements = elements-fit }

-- SCOPES AROUND A FIELD

no-boundary : (k : AstType) (i : ℕ) → goes k i ≡ true → is_boundary k ≡ false
no-boundary StaticBlock i e = absurd (cc e)
no-boundary FunctionExpression i e = absurd (cc e)
no-boundary ArrowFunctionExpression i e = absurd (cc e)
no-boundary FunctionDeclaration i e = absurd (cc e)
no-boundary k i e = refl

no-scope : (k : AstType) (i : ℕ) → goes k i ≡ true → reaches_out false k i ≡ true → is_scope k ≡ false
no-scope Program i e d = absurd (cc e)
no-scope StaticBlock i e d = absurd (cc e)
no-scope FunctionExpression i e d = absurd (cc e)
no-scope ArrowFunctionExpression i e d = absurd (cc e)
no-scope FunctionDeclaration i e d = absurd (cc e)
no-scope SwitchStatement zero e d = absurd (cc e)
no-scope SwitchStatement (suc i) e d = absurd (cc d)
no-scope BlockStatement i e d = absurd (cc d)
no-scope CatchClause i e d = absurd (cc d)
no-scope ForStatement i e d = absurd (cc d)
no-scope ForInStatement i e d = absurd (cc d)
no-scope ForOfStatement i e d = absurd (cc d)
no-scope k i e d = refl

not-top : (k : AstType) (l : Label) (fs : Fields) (i : ℕ) (up : List Ancestor) → goes k i ≡ true → is_at_top (above k l fs i 0 ∷ up) ≡ false
not-top Program l fs i up e = absurd (cc e)
not-top FunctionBody l fs i up e = absurd (cc e)
not-top StaticBlock l fs i up e = absurd (cc e)
not-top k l fs i up e = refl

first-kept : (k : AstType) (l : Label) (fs : Fields) (i : ℕ) (up : List Ancestor) → is_scope k ≡ false → IsFirst (scopes up) → IsFirst (scopes (above k l fs i 0 ∷ up))
first-kept k l fs i up e h = subst (λ (c : Bool). IsFirst (if c && not (same_type k BlockStatement && stands_in CatchClause 1 up) then (if is_boundary k then 0 ∷ [] else 0 ∷ scopes up) else scopes up)) (sym e) h

around-kept : (k : AstType) (l : Label) (fs : Fields) (i : ℕ) (up : List Ancestor) → is_boundary k ≡ false → HasOne (scopes up) → HasOne (scopes (above k l fs i 0 ∷ up))
around-kept k l fs i up e h = at (is_scope k && not (same_type k BlockStatement && stands_in CatchClause 1 up)) (is_boundary k) e
  where
    at : (m e : Bool) → e ≡ false → HasOne (if m then (if e then 0 ∷ [] else 0 ∷ scopes up) else scopes up)
    at true true d = absurd (cc d)
    at true false d = at_later h
    at false e d = h

place-top : (c : Bool) → is_top (if c then reads else Nothing) ≡ true → ⊥
place-top true e = absurd (cc e)
place-top false e = absurd (cc e)

member-top : (x : Text) (r : Role) → is_top (member_role x r) ≡ true → ⊥
member-top x (Member d) e = at (bytes_eq x (codes "constructor")) e
  where
    at : (b : Bool) → is_top (if b then Constructor d else Nothing) ≡ true → ⊥
    at true e = absurd (cc e)
    at false e = absurd (cc e)
member-top x _ e = absurd (cc e)

export-top : (c : Bool) → is_top (if c then Nothing else reads) ≡ true → ⊥
export-top true e = absurd (cc e)
export-top false e = absurd (cc e)

-- what is handed on is the top of a body, where the node stands there
top-in : (r : Role) (k : AstType) (l : Label) (fs : Fields) (i : ℕ) → goes k i ≡ true → is_top (role_at r k l fs i) ≡ true → (is_top r ≡ true) × (is_scope k ≡ false)
top-in r Program l fs i g e = absurd (cc g)
top-in r FunctionBody l fs i g e = absurd (cc g)
top-in r StaticBlock l fs i g e = absurd (cc g)
top-in r FunctionExpression l fs i g e = absurd (cc g)
top-in r ArrowFunctionExpression l fs i g e = absurd (cc g)
top-in r FunctionDeclaration l fs i g e = absurd (cc g)
top-in r ExportNamedDeclaration l fs zero g e = (e, refl)
top-in r ExportNamedDeclaration l fs (suc zero) g e = absurd (export-top (third_stands fs) e)
top-in r ExportDefaultDeclaration l fs zero g e = (e, refl)
top-in r VariableDeclaration l fs zero g e = absurd (cc e)
top-in r VariableDeclarator l fs zero g e = (e, refl)
top-in r ClassDeclaration l fs zero g e = absurd (cc e)
top-in r ClassDeclaration l fs (suc (suc zero)) g e = absurd (cc e)
top-in r ClassExpression l fs zero g e = absurd (cc e)
top-in r ClassExpression l fs (suc (suc zero)) g e = absurd (cc e)
top-in r MethodDefinition l fs (suc zero) g e = absurd (member-top (first_text l.texts) r e)
top-in r CatchClause l fs zero g e = absurd (cc e)
top-in r ImportSpecifier l fs (suc zero) g e = absurd (cc e)
top-in r ImportDefaultSpecifier l fs zero g e = absurd (cc e)
top-in r ImportNamespaceSpecifier l fs zero g e = absurd (cc e)
top-in r ExportSpecifier l fs zero g e = (e, refl)
top-in r ForInStatement l fs zero g e = absurd (cc e)
top-in r ForOfStatement l fs zero g e = absurd (cc e)
top-in r AssignmentExpression l fs zero g e = absurd (cc e)
top-in r UpdateExpression l fs zero g e = absurd (cc e)
top-in r ParenthesizedExpression l fs zero g e = (e, refl)
top-in r ObjectPattern l fs zero g e = (e, refl)
top-in r PatternProperty l fs (suc zero) g e = (e, refl)
top-in r ArrayPattern l fs i g e = (e, refl)
top-in r AssignmentPattern l fs zero g e = (e, refl)
top-in r RestElement l fs zero g e = (e, refl)
top-in r ObjectTarget l fs zero g e = (e, refl)
top-in r TargetProperty l fs (suc zero) g e = (e, refl)
top-in r ArrayTarget l fs i g e = (e, refl)
top-in r TargetWithDefault l fs zero g e = (e, refl)
top-in r TargetRest l fs zero g e = (e, refl)
top-in r k l fs i g e = absurd (place-top (is_name_place k l i) e)

shows-in : (b : Bool) (up : List Ancestor) (r : Role) (k : AstType) (l : Label) (fs : Fields) (i : ℕ) → goes k i ≡ true → Shows b up r → Shows (b && reaches_out false k i) (above k l fs i 0 ∷ up) (role_at r k l fs i)
shows-in b up r k l fs i g h = record {
  around = around-kept k l fs i up (no-boundary k i g) h.around;
  first = λ e. (let q = and_parts b (reaches_out false k i) e in first-kept k l fs i up (no-scope k i g q.1) (h.first q.0));
  top = λ e. (let q = top-in r k l fs i g e in first-kept k l fs i up q.1 (h.top q.0));
  only_top = λ e. absurd (not-both (is_at_top (above k l fs i 0 ∷ up)) (not-top k l fs i up g) e);
}

-- NAMES IN A FIELD

asked-place : (v c : Bool) → is_asked v (if c then reads else Nothing) ≡ false
asked-place v true = refl
asked-place v false = refl

asked-export : (v c : Bool) → is_asked v (if c then Nothing else reads) ≡ false
asked-export v true = refl
asked-export v false = refl

asked-member : (v : Bool) (x : Text) (r : Role) → is_asked v (member_role x r) ≡ false
asked-member v x (Member d) = at (bytes_eq x (codes "constructor"))
  where
    at : (b : Bool) → is_asked v (if b then Constructor d else Nothing) ≡ false
    at true = refl
    at false = refl
asked-member v x _ = refl

module _ (b : Bool) (up : List Ancestor) (r : Role) (h : Shows b up r) where
  -- classes and imports
  lexical-names : (v c : Bool) → (v || (b && c)) ≡ true → (x : Text) → v ≡ false → (ms : List Name) → NamedIn x (not v) (lexical_names up x ++ ms)
  lexical-names true c o x e ms = absurd (cc e)
  lexical-names false c o x e ms = named-before ms (named-first (h.first (and_parts b c o).0) x true true (λ d. d))

  word-names : (v w c d : Bool) (x : Text) (ms : List Name) → (v || (b && c)) ≡ true → is_asked v (Binds (if w then Variable else if d then Let else Constant)) ≡ true → NamedIn x (not v) ((if not w then lexical_names up x else var_names up x) ++ ms)
  word-names true true c d x ms o e = named-before ms (named-var h.around x)
  word-names true false c true x ms o e = absurd (cc e)
  word-names true false c false x ms o e = absurd (cc e)
  word-names false true c d x ms o e = absurd (cc e)
  word-names false false c d x ms o e = lexical-names false c o x refl ms

  imported : (v c : Bool) → (v || (b && c)) ≡ true → (x : Text) → is_asked v (Binds Import) ≡ true → NamedIn x (not v) (lexical_names up x)
  imported true c o x a = absurd (cc a)
  imported false c o x a = named-first (h.first (and_parts b c o).0) x true true (λ d. d)

  -- a function's name
  function-shown : Shown b (λ x. function_names up x ++ exports_of up x) (Binds (function_binding r))
  function-shown true o x e = named-before (exports_of up x) (named-first (h.top (at r e)) x false (not (is_at_top up)) (λ d. absurd (cc d)))
    where
      at : (r : Role) → is_asked true (Binds (function_binding r)) ≡ true → is_top r ≡ true
      at Top e = refl
      at _ e = absurd (cc e)
  function-shown false o x e = named-before (exports_of up x) (named-first (h.first o) x true (not (is_at_top up)) (λ d. at (is_at_top up) refl))
    where
      not-here : (r : Role) → is_asked false (Binds (function_binding r)) ≡ true → is_top r ≡ false
      not-here Top e = absurd (cc e)
      not-here _ e = refl

      at : (c : Bool) → is_at_top up ≡ c → not c ≡ true
      at true d = absurd (not-both (is_top r) (not-here r e) (h.only_top d))
      at false d = refl

  module _ (l : Label) (fs : Fields) (j : AstType) where
    abbrev PlacedIn : AstType → ℕ → Type 0
    PlacedIn k i = Placed (b && reaches_out false k i) (above k l fs i 0 ∷ up) (role_at r k l fs i) j

    -- where other names than those of `var` don't count
    own-scope : {vs : List Ancestor} (s : Role) → is_asked true s ≡ false → is_pattern j ≡ true → Placed (b && false) vs s j
    own-scope s e d = as-pattern j d (λ v o x a. absurd (at v o a))
      where
        at : (v : Bool) → (v || (b && false)) ≡ true → is_asked v s ≡ true → ⊥
        at true o a = not-both (is_asked true s) e a
        at false o a = absurd (cc (and_parts b false o).1)

    handed-on : {vs : List Ancestor} (c : Bool) → is_pattern j ≡ true → ((x : Text) → bound_names vs x ≡ bound_names up x) → Shown b (bound_names up) r → Placed (b && c) vs r j
    handed-on c d e s = as-pattern j d (λ v o x a. subst (λ (ns : List Name). NamedIn x (not v) ns) (sym (e x)) (s v (narrow b c v o) x a))

    placed-in : (k : AstType) (i : ℕ) → goes k i ≡ true → Placed b up r k → binds k i j ≡ true → PlacedIn k i
    placed-in Program i g p e = absurd (cc g)
    placed-in FunctionBody i g p e = absurd (cc g)
    placed-in StaticBlock i g p e = absurd (cc g)
    placed-in FunctionExpression i g p e = absurd (cc g)
    placed-in ArrowFunctionExpression i g p e = absurd (cc g)
    placed-in FunctionDeclaration i g p e = absurd (cc g)
    placed-in ExportNamedDeclaration zero g p e = unasked (p.other refl refl)
    placed-in ExportNamedDeclaration (suc zero) g p e = unasked (λ v. asked-export v (third_stands fs))
    placed-in ExportDefaultDeclaration zero g p e = unasked (p.other refl refl)
    placed-in VariableDeclaration zero g p e = as-declarator j e (λ v o x a. word-names v (bytes_eq (first_text l.texts) (codes "var")) (reaches_out false VariableDeclaration 0) (bytes_eq (first_text l.texts) (codes "let")) x (exports_of up x) o a)
    placed-in VariableDeclarator zero g p e = as-pattern j e (λ v o x a. p.declarator refl v (narrow b true v o) x a)
    placed-in ClassDeclaration zero g p e = as-pattern j e (λ v o x a. lexical-names v true o x (at v a) (exports_of up x))
      where
        at : (v : Bool) → is_asked v (Binds Class) ≡ true → v ≡ false
        at true a = absurd (cc a)
        at false a = refl
    placed-in ClassDeclaration (suc (suc zero)) g p e = unasked (λ v. refl)
    placed-in ClassExpression zero g p e = own-scope (Binds Class) refl e
    placed-in ClassExpression (suc (suc zero)) g p e = unasked (λ v. refl)
    placed-in MethodDefinition (suc zero) g p e = unasked (λ v. asked-member v (first_text l.texts) r)
    placed-in CatchClause zero g p e = own-scope (Binds CatchParameter) refl e
    placed-in ImportSpecifier (suc zero) g p e = as-pattern j e (λ v o x a. imported v true o x a)
    placed-in ImportDefaultSpecifier zero g p e = as-pattern j e (λ v o x a. imported v true o x a)
    placed-in ImportNamespaceSpecifier zero g p e = as-pattern j e (λ v o x a. imported v true o x a)
    placed-in ExportSpecifier zero g p e = unasked (p.other refl refl)
    placed-in ForInStatement zero g p e = unasked (λ v. refl)
    placed-in ForOfStatement zero g p e = unasked (λ v. refl)
    placed-in AssignmentExpression zero g p e = unasked (λ v. refl)
    placed-in UpdateExpression zero g p e = unasked (λ v. refl)
    placed-in ParenthesizedExpression zero g p e = unasked (p.other refl refl)
    placed-in ObjectPattern zero g p e = handed-on true e (λ x. refl) (p.pattern refl)
    placed-in PatternProperty (suc zero) g p e = handed-on true e (λ x. refl) (p.pattern refl)
    placed-in ArrayPattern i g p e = handed-on true e (λ x. refl) (p.pattern refl)
    placed-in AssignmentPattern zero g p e = handed-on true e (λ x. refl) (p.pattern refl)
    placed-in RestElement zero g p e = handed-on true e (λ x. refl) (p.pattern refl)
    placed-in ObjectTarget zero g p e = unasked (p.other refl refl)
    placed-in TargetProperty (suc zero) g p e = unasked (p.other refl refl)
    placed-in ArrayTarget i g p e = unasked (p.other refl refl)
    placed-in TargetWithDefault zero g p e = unasked (p.other refl refl)
    placed-in TargetRest zero g p e = unasked (p.other refl refl)
    placed-in k i g p e = unasked (λ v. asked-place v (is_name_place k l i))

-- KINDS OF NODES: what declares nothing around it; a function; and what is looked into, but for fields that declare nothing

abbrev FieldCase : AstType → Label → Fields → ℕ → Field → Type 0
FieldCase k l all i f = (goes k i ≡ true) ⊎ ((v : Bool) (r : Role) → declared_by v (role_at r k l all i) f ≡ [])

abbrev FieldCases : AstType → Label → Fields → ℕ → Fields → Type 0
FieldCases k l all i done = Unit {0}
FieldCases k l all i (f then fs) = FieldCase k l all i f × FieldCases k l all (suc i) fs

-- the fields of a function, which declares nothing by `var` but its name
pub data IsFunction : Fields → Type 0 where
  is_function : {f : Field} {ps : Trees} {b : Tree} → IsFunctionName f → declared_among true (Binds Parameter) ps ≡ [] → declared true reads b ≡ [] → IsFunction (f then many ps then one b then done)

pub data NodeCase : AstType → Label → Fields → Type 0 where
  quiet : {k : AstType} {l : Label} {fs : Fields} → ((v : Bool) (r : Role) → declared v r (node k l fs) ≡ []) → NodeCase k l fs
  a_function : {l : Label} {fs : Fields} → IsFunction fs → NodeCase FunctionDeclaration l fs
  looked_into : {k : AstType} {l : Label} {fs : Fields} → FieldCases k l fs 0 fs → NodeCase k l fs

all-go : (k : AstType) (l : Label) (all : Fields) (i : ℕ) (fs : Fields) → ((n : ℕ) → goes k n ≡ true) → FieldCases k l all i fs
all-go k l all i done h = tt
all-go k l all i (f then fs) h = (inl (h i), all-go k l all (suc i) fs h)

later-go : (k : AstType) (l : Label) (all : Fields) (i : ℕ) (fs : Fields) → ((n : ℕ) → goes k (suc n) ≡ true) → FieldCases k l all (suc i) fs
later-go k l all i done h = tt
later-go k l all i (f then fs) h = (inl (h i), later-go k l all (suc i) fs h)

-- a function

abbrev without : List Entry → List Entry
without [] = []
without (e ∷ es) = es

abbrev entries : List Entry
entries = child_entries FunctionDeclaration

pub function-name : (k : AstType) (l : Label) (f : Field) → field_form k l (c-Child s-Identifier Optional) f ≡ true → IsFunctionName f
function-name k l missing h = nameless
function-name k l (one (node Identifier m done)) h = named
function-name k l (one (node Identifier m (g then gs))) h = absurd (let no : false ≡ true = (node_form s-Identifier Identifier m (g then gs) h).children in cc no)
function-name k l (one (node j m fs)) h = absurd (let no : false ≡ true = (node_form s-Identifier j m fs h).sort in cc no)
function-name k l (many ts) h = absurd (cc h)
function-name k l (statements ts) h = absurd (cc h)

parameters-none : (ps : Trees) → trees_form s-Pattern s-PatternRest ps ≡ true → declared_among true (Binds Parameter) ps ≡ []
parameters-none empty h = refl
parameters-none (t before empty) h = λ i. declares-none true (Binds Parameter) s-PatternRest t refl refl (and_parts (has_form s-PatternRest t) true h).0 i ++ []
parameters-none (t before (u before ts)) h =
    let parts = and_parts (has_form s-Pattern t) (trees_form s-Pattern s-PatternRest (u before ts)) h in
    λ i. declares-none true (Binds Parameter) s-Pattern t refl refl parts.0 i ++ parameters-none (u before ts) parts.1 i

after-parameters : (l : Label) (f : Field) (ps : Trees) (hs : Fields) → IsFunctionName f → trees_form s-Pattern s-PatternRest ps ≡ true → fields_form FunctionDeclaration l (without (without entries)) hs ≡ true → IsFunction (f then many ps then hs)
after-parameters l f ps (one b then done) n h e = is_function n (parameters-none ps h) (declares-none true reads s-FunctionBody b refl refl (and_parts (has_form s-FunctionBody b) true e).0)
after-parameters l f ps done n h e = absurd (cc e)
after-parameters l f ps (missing then hs) n h e = absurd (cc e)
after-parameters l f ps (many ts then hs) n h e = absurd (cc e)
after-parameters l f ps (statements ts then hs) n h e = absurd (cc e)
after-parameters l f ps (one b then (g then hs)) n h e = absurd (let no : false ≡ true = (and_parts (has_form s-FunctionBody b) false e).1 in cc no)

after-name : (l : Label) (f : Field) (gs : Fields) → IsFunctionName f → fields_form FunctionDeclaration l (without entries) gs ≡ true → IsFunction (f then gs)
after-name l f (many ps then hs) n e = (let q = and_parts (trees_form s-Pattern s-PatternRest ps) (fields_form FunctionDeclaration l (without (without entries)) hs) e in after-parameters l f ps hs n q.0 q.1)
after-name l f done n e = absurd (cc e)
after-name l f (missing then hs) n e = absurd (cc e)
after-name l f (one t then hs) n e = absurd (cc e)
after-name l f (statements ts then hs) n e = absurd (cc e)

pub function-parts : (l : Label) (fs : Fields) → fields_form FunctionDeclaration l entries fs ≡ true → IsFunction fs
function-parts l done e = absurd (cc e)
function-parts l (f then gs) e = (let q = and_parts (field_form FunctionDeclaration l (c-Child s-Identifier Optional) f) (fields_form FunctionDeclaration l (without entries) gs) e in after-name l f gs (function-name FunctionDeclaration l f q.0) q.1)

switch-case : (l : Label) (fs : Fields) → fields_form SwitchStatement l (child_entries SwitchStatement) fs ≡ true → NodeCase SwitchStatement l fs
switch-case l (one t then gs) e = looked_into (inr (λ v r. (law_expression_proof t (and_parts (has_form s-Expression t) (fields_form SwitchStatement l (without (child_entries SwitchStatement)) gs) e).0).declares_nothing v), later-go SwitchStatement l (one t then gs) 0 gs (λ n. refl))
switch-case l done e = absurd (cc e)
switch-case l (missing then gs) e = absurd (cc e)
switch-case l (many ts then gs) e = absurd (cc e)
switch-case l (statements ts then gs) e = absurd (cc e)

-- no field of a body counts
none-counts : (v : Bool) (k : AstType) (l : Label) (fs : Fields) (roles : ℕ → Role) → ((w : Bool) → reaches_out w k ≡ (λ i. false)) → declared_in v (reaches_out v k) roles fs ≡ []
none-counts v k l fs roles e = (λ i. declared_in v (e v i) roles fs) ∙ declared-none v roles fs

as-expression : (s : Sort) (k : AstType) (l : Label) (fs : Fields) → is_of_sort s-Expression k ≡ true → NodeForm s k l fs → has_form s-Expression (node k l fs) ≡ true
as-expression s k l fs e n = has_form-node s-Expression k l fs (record { sort = e; texts = n.texts; flags = n.flags; start = n.start; stop = n.stop; agree = n.agree; children = n.children })

pub node-case : (s : Sort) (k : AstType) (l : Label) (fs : Fields) → NodeForm s k l fs → NodeCase k l fs
node-case s Program l fs n = quiet (λ v r. none-counts v Program l fs (role_at r Program l fs) at)
  where
    at : (w : Bool) → reaches_out w Program ≡ (λ i. false)
    at true = refl
    at false = refl
node-case s FunctionBody l fs n = quiet (λ v r. none-counts v FunctionBody l fs (role_at r FunctionBody l fs) at)
  where
    at : (w : Bool) → reaches_out w FunctionBody ≡ (λ i. false)
    at true = refl
    at false = refl
node-case s StaticBlock l fs n = quiet (λ v r. none-counts v StaticBlock l fs (role_at r StaticBlock l fs) at)
  where
    at : (w : Bool) → reaches_out w StaticBlock ≡ (λ i. false)
    at true = refl
    at false = refl
node-case s FunctionExpression l fs n = quiet (λ v r. declares-none v reads s-Expression (node FunctionExpression l fs) refl refl (as-expression s FunctionExpression l fs refl n))
node-case s ArrowFunctionExpression l fs n = quiet (λ v r. declares-none v reads s-Expression (node ArrowFunctionExpression l fs) refl refl (as-expression s ArrowFunctionExpression l fs refl n))
node-case s FunctionDeclaration l fs n = a_function (function-parts l fs n.children)
node-case s SwitchStatement l fs n = switch-case l fs n.children
node-case s k l fs n = looked_into (all-go k l fs 0 fs (λ i. refl))

-- WHAT A NODE DECLARES ITSELF

own-covered : (b : Bool) (up : List Ancestor) (r : Role) (k : AstType) (l : Label) (fs : Fields) → Placed b up r k → Covered b (push (filter is_owned (names_of up (node k l fs))) []) (own_declared true r k l) (own_declared false r k l)
own-covered b up r Identifier l fs p = record { vars = λ x q. named-where true x refl (held-where (is_asked true r) x (it ∷ []) q); lexicals = λ e x q. named-where false x e (held-where (is_asked false r) x (it ∷ []) q); apart = λ e x y q s d. absurd (never r (held-where (is_asked true r) x (it ∷ []) q).0 (held-where (is_asked false r) y (it ∷ []) s).0) }
  where
    it : Bound
    it = record { name = first_text l.texts; symbol = symbol_of l }

    named-where : (v : Bool) (x : Bound) → (v || b) ≡ true → (is_asked v r ≡ true) × Held x (it ∷ []) → NamedAmong x.name (not v) (push (filter is_owned (bound_names up (first_text l.texts) ++ exported_names up (first_text l.texts))) [])
    named-where v x o q = at q.1
      where
        at : Held x (it ∷ []) → NamedAmong x.name (not v) (push (filter is_owned (bound_names up (first_text l.texts) ++ exported_names up (first_text l.texts))) [])
        at (found e) = subst (λ (y : Bound). NamedAmong y.name (not v) (push (filter is_owned (bound_names up (first_text l.texts) ++ exported_names up (first_text l.texts))) [])) e (named-pushed [] (named-owned (named-before (exported_names up (first_text l.texts)) (p.pattern refl v o (first_text l.texts) q.0))))
        at (further h) = absurd (held-none x h)

    never : (r : Role) → is_asked true r ≡ true → is_asked false r ≡ true → ⊥
    never (Binds Variable) e d = absurd (cc d)
    never (Binds TopFunction) e d = absurd (cc d)
    never (Binds c) e d = absurd (cc e)
    never r e d = absurd (cc d)
own-covered b up r k l fs p = covered-pushed b (filter is_owned (names_of up (node k l fs))) [] [] [] (covered-none b [])

-- A FUNCTION: its name

name-covered : (b : Bool) (up : List Ancestor) (r : Role) (l : Label) (all : Fields) (f : Field) → Shows b up r → IsFunctionName f → Covered b (claims_by is_owned (above FunctionDeclaration l all 0 0 ∷ up) f) (declared_by true (Binds (function_binding r)) f) (declared_by false (Binds (function_binding r)) f)
name-covered b up r l all f h nameless = covered-none b []
name-covered b up r l all f h (named {l = m}) =
    let vs = above FunctionDeclaration l all 0 0 ∷ up in
    let s = Binds (function_binding r) in
    let own = push (filter is_owned (names_of vs (node Identifier m done))) [] in
    subst (λ (gs : List (List Name)). Covered b gs (own_declared true s Identifier m ++ []) (own_declared false s Identifier m ++ [])) (append-nil own)
    (covered-both b own [] (own_declared true s Identifier m) [] (own_declared false s Identifier m) [] (own-covered b vs s Identifier m done (as-pattern Identifier refl (function-shown b up r h))) (covered-none b []))

function-covered : (b : Bool) (up : List Ancestor) (r : Role) (l : Label) (fs : Fields) → Shows b up r → IsFunction fs → Covered b (claims is_owned up (node FunctionDeclaration l fs)) (declared true r (node FunctionDeclaration l fs)) (declared false r (node FunctionDeclaration l fs))
function-covered b up r l fs h (is_function {f = f} {ps = ps} {b = t} n parameters body) =
    let all : Fields = f then many ps then one t then done in
    let s = Binds (function_binding r) in
    let rest = claims_all is_owned (above FunctionDeclaration l all 1 0 ∷ up) ps ++ (claims is_owned (above FunctionDeclaration l all 2 0 ∷ up) t ++ []) in
    covered-both b (claims_by is_owned (above FunctionDeclaration l all 0 0 ∷ up) f) rest (declared_by true s f) (declared_among true (Binds Parameter) ps ++ (declared true reads t ++ [])) (declared_by false s f) [] (name-covered b up r l all f h n) (covered-quiet b rest (declared_among true (Binds Parameter) ps ++ (declared true reads t ++ [])) [] (λ i. parameters i ++ (body i ++ [])) refl)

-- TREES

node-covered : (b : Bool) (up : List Ancestor) (r : Role) (k : AstType) (l : Label) (fs : Fields) → Shows b up r → Placed b up r k → NodeCase k l fs →
    (FieldCases k l fs 0 fs → Covered b (claims_in is_owned up k l fs 0 0 fs) (declared_in true (reaches_out true k) (role_at r k l fs) fs) (declared_in false (reaches_out false k) (role_at r k l fs) fs)) →
    Covered b (claims is_owned up (node k l fs)) (declared true r (node k l fs)) (declared false r (node k l fs))
node-covered b up r k l fs h p (quiet q) deeper = covered-quiet b _ (declared true r (node k l fs)) (declared false r (node k l fs)) (q true r) (q false r)
node-covered b up r k l fs h p (looked_into c) deeper =
    let own = push (filter is_owned (names_of up (node k l fs))) [] in
    let inner = claims_in is_owned up k l fs 0 0 fs in
    subst (λ (gs : List (List Name)). Covered b gs (declared true r (node k l fs)) (declared false r (node k l fs))) (sym (push-append (filter is_owned (names_of up (node k l fs))) [] inner))
    (covered-both b own inner (own_declared true r k l) (declared_in true (reaches_out true k) (role_at r k l fs) fs) (own_declared false r k l) (declared_in false (reaches_out false k) (role_at r k l fs) fs) (own-covered b up r k l fs p) (deeper c))
node-covered b up r FunctionDeclaration l fs h p (a_function is) deeper = function-covered b up r l fs h is

same-field : (b c d : Bool) (gs : List (List Name)) (v : Bool) (r s : Role) (f : Field) → r ≡ s → c ≡ d → Covered (b && d) gs (declared_by true s f) (declared_by false s f) → Covered b gs (if v then declared_by true r f else []) (if c then declared_by false r f else [])
same-field b c d gs v r s f e g h =
    covered-where b v c gs (declared_by true r f) (declared_by false r f)
    (subst (λ (x : Bool). Covered (b && x) gs (declared_by true r f) (declared_by false r f)) (sym g) (subst (λ (q : Role). Covered (b && d) gs (declared_by true q f) (declared_by false q f)) (sym e) h))

abbrev SameField : AstType → Label → Fields → Role → ℕ → (ℕ → Bool) → (ℕ → Role) → Type 0
SameField k l all r i counts roles = (j n : ℕ) → n ≡ i + j → (roles j ≡ role_at r k l all n) × (counts j ≡ reaches_out false k n)

mutual
  pub tree-covered : (b : Bool) (up : List Ancestor) (r : Role) (t : Tree) → Shows b up r → Placed b up r (kind_of t) → All NodeCase t → EdgesIn inside (kind_of t) 0 (fields_of t) → Covered b (claims is_owned up t) (declared true r t) (declared false r t)
  tree-covered b up r (node k l fs) h p q e = node-covered b up r k l fs h p q.0 (λ c. fields-covered b up r k l fs 0 fs (reaches_out true k) (reaches_out false k) (role_at r k l fs) (λ j n d. (ap (role_at r k l fs) (sym (d ∙ from-none j)), ap (reaches_out false k) (sym (d ∙ from-none j)))) h p c q.1 e)

  fields-covered : (b : Bool) (up : List Ancestor) (r : Role) (k : AstType) (l : Label) (all : Fields) (i : ℕ) (fs : Fields) (vars counts : ℕ → Bool) (roles : ℕ → Role) → SameField k l all r i counts roles → Shows b up r → Placed b up r k → FieldCases k l all i fs → AllIn NodeCase fs → EdgesIn inside k i fs → Covered b (claims_in is_owned up k l all 0 i fs) (declared_in true vars roles fs) (declared_in false counts roles fs)
  fields-covered b up r k l all i done vars counts roles m h p c q e = covered-none b []
  fields-covered b up r k l all i (f then fs) vars counts roles m h p c q e =
      let gs = claims_by is_owned (above k l all i 0 ∷ up) f in
      let same = m zero i (omega arith) in
      covered-both b gs (claims_in is_owned up k l all 0 (suc i) fs)
      (if vars zero then declared_by true (roles zero) f else []) (declared_in true (λ j. vars (suc j)) (λ j. roles (suc j)) fs)
      (if counts zero then declared_by false (roles zero) f else []) (declared_in false (λ j. counts (suc j)) (λ j. roles (suc j)) fs)
      (same-field b (counts zero) (reaches_out false k i) gs (vars zero) (roles zero) (role_at r k l all i) f same.0 same.1 (field-covered b up r k l all i (is_last fs) f h p c.0 q.0 e.0))
      (fields-covered b up r k l all (suc i) fs (λ j. vars (suc j)) (λ j. counts (suc j)) (λ j. roles (suc j)) (λ j n d. m (suc j) n (d ∙ later-field i j)) h p c.1 q.1 e.1)

  field-covered : (b : Bool) (up : List Ancestor) (r : Role) (k : AstType) (l : Label) (all : Fields) (i : ℕ) (last : Bool) (f : Field) → Shows b up r → Placed b up r k → FieldCase k l all i f → AllBy NodeCase f → EdgesBy inside k i last f →
      Covered (b && reaches_out false k i) (claims_by is_owned (above k l all i 0 ∷ up) f) (declared_by true (role_at r k l all i) f) (declared_by false (role_at r k l all i) f)
  field-covered b up r k l all i last f h p (inr u) q e = covered-quiet (b && reaches_out false k i) (claims_by is_owned (above k l all i 0 ∷ up) f) (declared_by true (role_at r k l all i) f) (declared_by false (role_at r k l all i) f) (u true r) (u false r)
  field-covered b up r k l all i last missing h p (inl g) q e = covered-none (b && reaches_out false k i) []
  field-covered b up r k l all i last (one (node j m gs)) h p (inl g) q e = tree-covered (b && reaches_out false k i) (above k l all i 0 ∷ up) (role_at r k l all i) (node j m gs) (shows-in b up r k l all i g h) (placed-in b up r h l all j k i g p e.0) q e.1
  field-covered b up r k l all i last (many ts) h p (inl g) q e = trees-covered (b && reaches_out false k i) (above k l all i 0 ∷ up) (role_at r k l all i) k i ts (shows-in b up r k l all i g h) (λ j d. placed-in b up r h l all j k i g p d) q e
  field-covered b up r k l all i last (statements ts) h p (inl g) q e = trees-covered (b && reaches_out false k i) (above k l all i 0 ∷ up) (role_at r k l all i) k i ts (shows-in b up r k l all i g h) (λ j d. placed-in b up r h l all j k i g p d) q e

  pub trees-covered : (b : Bool) (up : List Ancestor) (r : Role) (k : AstType) (i : ℕ) (ts : Trees) → Shows b up r → ((j : AstType) → binds k i j ≡ true → Placed b up r j) → AllAmong NodeCase ts → EdgesAll inside k i ts → Covered b (claims_all is_owned up ts) (declared_among true r ts) (declared_among false r ts)
  trees-covered b up r k i empty h p q e = covered-none b []
  trees-covered b up r k i (node j m gs before ts) h p q e =
      covered-both b (claims is_owned up (node j m gs)) (claims_all is_owned up ts) (declared true r (node j m gs)) (declared_among true r ts) (declared false r (node j m gs)) (declared_among false r ts)
      (tree-covered b up r (node j m gs) h (p j e.0.0) q.0 e.0.1) (trees-covered b up r k i ts h p q.1 e.1)

-- STATEMENTS at the top of a body

pub top-covered : (up : List Ancestor) (k : AstType) (i : ℕ) (ts : Trees) → scopes up ≡ 1 ∷ [] → AllAmong NodeCase ts → EdgesAll inside k i ts → Covered true (claims_all is_owned up ts) (declared_among true Top ts) (declared_among false Top ts)
top-covered up k i ts e q d =
    let first : IsFirst (scopes up) = subst (λ (ns : List ℕ). IsFirst ns) (sym e) (is_first refl) in
    trees-covered true up Top k i ts (record { around = first-has first; first = λ c. first; top = λ c. first; only_top = λ c. refl }) (λ j c. unasked (λ v. refl)) q d
