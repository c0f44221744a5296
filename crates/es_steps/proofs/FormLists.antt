-- What may be pending for lists and bodies, and their form with it.
use Rattle.std.proofs.Common.{◌≡◌, refl, sym, ap, subst, ◌∙◌, List, [], ◌∷◌}
use Rattle.std.specs.Prelude.{Bool, true, false, Option, Some, None, codes, map, if◌then◌else◌}
use Rattle.std.proofs.lemmas.Bool.{and_parts, and_from}
use Rattle.es_tree.specs.HasForm.{has_form, is_of_sort, trees_form}
use Rattle.es_tree.specs.Tree.{Tree, node, done, ◌then◌, one, many, statements, Trees, empty, ◌before◌, trees, kind_of}
use Rattle.es_tree.specs.declared.ast_type.AstType.{AstType}
use Rattle.es_tree.specs.declared.ast_type.AstType.TheVariants.{FunctionBody, Program, ReturnStatement, VariableDeclaration}
use Rattle.es_tree.specs.declared.table.Sort.{Sort}
use Rattle.es_tree.specs.declared.table.Sort.TheVariants.{ArrowFunctionBody as s-ArrowFunctionBody, Expression as s-Expression, Statement as s-Statement, VariableDeclarator as s-VariableDeclarator}
use Rattle.es_tree.proofs.NodeForm.{node_form, has_form-node}
use Rattle.es_resolution.specs.Declarations.{Bound, is_var_scope}
use Rattle.es_steps.specs.Nodes.{made, declarator, declarator_with, identifier, joined_trees, return_node, this_expression, this_statement}
use Rattle.es_steps.specs.Open.{Additions, Pending, after_imports, declaration, import_statement, is_import, no_additions, nothing_pending, pending_statements, whole_list, with_this, with_vars, written, written_body}
use Rattle.es_steps.specs.Steps.{IsExpression}
use Rattle.es_steps.proofs.FormSorts.{form-wider}
use Rattle.es_steps.proofs.FormParts.{IsFormed, IsText, no-span}
use Rattle.es_steps.proofs.FormMembers.{formed-first, one-sort}
use Rattle.es_steps.proofs.FormRows.{AreTexts}

-- WHAT IS PENDING

-- temporaries alone are pending
pub record IsPlain (p : Pending) : Type 0 where
  pub names : List Bound
  pub texts : AreTexts names
  pub are : p ≡ with_vars names nothing_pending

pub plain-none : IsPlain nothing_pending
plain-none = record { names = []; texts = tt; are = refl }

-- the name that stands for `this` isn't empty
abbrev pub HasText : Option Bound → Type 0
HasText None = Unit {0}
HasText (Some b) = IsText b

-- what is to be written at a program's top has form in the list of a program
pub record AreFormed (a : Additions) : Type 0 where
  pub imports : (s : Sort) → is_of_sort s VariableDeclaration ≡ true → trees_form s s (trees (map import_statement a.imports)) ≡ true
  pub excluded : (s : Sort) (ts : Trees) → is_of_sort s VariableDeclaration ≡ true → trees_form s s ts ≡ true → trees_form s s (declaration (codes "const") a.excluded ts) ≡ true

-- for a list temporaries are pending, and of a name of `this` and of what is to be written at the program's top what may be
pub record IsPendingList (This : Option Bound → Type 0) (Top : Additions → Type 0) (p : Pending) (x : Option Bound) (a : Additions) : Type 0 where
  pub vars : IsPlain p
  pub this : This x
  pub top : Top a

-- WHAT MAY BE PENDING of one kind: which of it may be for a list, and what a step may make of it

pub record MayPend (X : Type 0) (nothing : X) : Type 1 where
  pub Is : X → Type 0
  pub After : X → X → Type 0
  pub none : Is nothing
  pub same : (x y : X) → y ≡ x → After x y
  pub still : (x y : X) → After x y → Is x → Is y

-- nothing, and it stays
abbrev pub none_of : (X : Type 0) (nothing : X) → MayPend X nothing
none_of X nothing = record { Is = λ x. x ≡ nothing; After = λ x y. y ≡ x; none = refl; same = λ x y e. e; still = λ x y e h. e ∙ h }

-- whatever is such, and it stays such
abbrev pub any_such : (X : Type 0) (nothing : X) (Such : X → Type 0) → Such nothing → MayPend X nothing
any_such X nothing Such none = record { Is = Such; After = λ x y. Such x → Such y; none = none; same = λ x y e h. subst Such (sym e) h; still = λ x y f h. f h }

-- All that may be pending beside temporaries, and what is known of it around a node; where it is written it has form.
pub record Setting : Type 1 where
  pub this : MayPend (Option Bound) None
  pub top : MayPend Additions no_additions
  pub Known : Option Bound → Additions → Type 0
  pub in_target : (x y : Option Bound) (a : Additions) → Known x a → this.Is y → Known y a
  pub in_program : (y : Option Bound) (b : Additions) → this.Is y → top.Is b → Known y b
  pub texts : (x : Option Bound) → this.Is x → HasText x
  pub formed : (a : Additions) → top.Is a → AreFormed a

abbrev pub IsListIn : Setting → Pending → Option Bound → Additions → Type 0
IsListIn P = IsPendingList P.this.Is P.top.Is

pub nothing-in : (P : Setting) → IsListIn P nothing_pending None no_additions
nothing-in P = record { vars = plain-none; this = P.this.none; top = P.top.none }

pub nothing-formed : (a : Additions) → a ≡ no_additions → AreFormed a
nothing-formed a e = subst AreFormed (sym e) (record { imports = λ s d. refl; excluded = λ s ts d h. h })

-- no name of `this` is pending, and nothing for the program's top
abbrev pub temporaries_alone : Setting
temporaries_alone = record {
  this = none_of (Option Bound) None;
  top = none_of Additions no_additions;
  Known = λ x a. Unit {0};
  in_target = λ x y a known h. tt;
  in_program = λ y b h g. tt;
  texts = λ x e. subst HasText (sym e) tt;
  formed = nothing-formed;
}

abbrev pub IsPlainList : Pending → Option Bound → Additions → Type 0
IsPlainList = IsListIn temporaries_alone

-- LISTS

pub first-formed : (s : Sort) (t : Tree) (ts : Trees) → trees_form s s (t before ts) ≡ true → (has_form s t ≡ true) × (trees_form s s ts ≡ true)
first-formed s t ts h = let parts = and_parts _ (trees_form s s ts) h in (ap (λ a. has_form a t) (sym (one-sort s ts)) ∙ parts.0, parts.1)

joined-formed : (s : Sort) (bs ts : Trees) → trees_form s s bs ≡ true → trees_form s s ts ≡ true → trees_form s s (joined_trees bs ts) ≡ true
joined-formed s empty ts h k = k
joined-formed s (b before bs) ts h k = let parts = first-formed s b bs h in formed-first s b (joined_trees bs ts) parts.0 (joined-formed s bs ts parts.1 k)

joined-rest : (s : Sort) (bs ts : Trees) → trees_form s s (joined_trees bs ts) ≡ true → trees_form s s ts ≡ true
joined-rest s empty ts h = h
joined-rest s (b before bs) ts h = joined-rest s bs ts (first-formed s b (joined_trees bs ts) h).1

after-formed : (s : Sort) (bs ts : Trees) → trees_form s s bs ≡ true → trees_form s s ts ≡ true → trees_form s s (after_imports bs ts) ≡ true
after-formed s bs empty h k = h
after-formed s bs (t before ts) h k = at (is_import t) (after-formed s bs ts h (first-formed s t ts k).1)
  where
    at : (v : Bool) → trees_form s s (after_imports bs ts) ≡ true → trees_form s s (if v then t before after_imports bs ts else joined_trees bs (t before ts)) ≡ true
    at true rest = formed-first s t (after_imports bs ts) (first-formed s t ts k).0 rest
    at false rest = joined-formed s bs (t before ts) h k

-- a list has form where it has with others written before it
pub after-rest : (s : Sort) (bs ts : Trees) → trees_form s s (after_imports bs ts) ≡ true → trees_form s s ts ≡ true
after-rest s bs empty h = refl
after-rest s bs (t before ts) h = at (is_import t) (λ k. after-rest s bs ts k) h
  where
    at : (v : Bool) → (trees_form s s (after_imports bs ts) ≡ true → trees_form s s ts ≡ true) → trees_form s s (if v then t before after_imports bs ts else joined_trees bs (t before ts)) ≡ true → trees_form s s (t before ts) ≡ true
    at true rest k = let parts = first-formed s t (after_imports bs ts) k in formed-first s t ts parts.0 (rest parts.1)
    at false rest k = joined-rest s bs (t before ts) k

-- DECLARATIONS

declarators-formed : (bs : List Bound) → AreTexts bs → trees_form s-VariableDeclarator s-VariableDeclarator (trees (map declarator bs)) ≡ true
declarators-formed [] h = refl
declarators-formed (b ∷ bs) h = formed-first s-VariableDeclarator (declarator b) (trees (map declarator bs)) (let e = h.0 in rw e refl) (declarators-formed bs h.1)

-- a declaration of these
var-formed : (s : Sort) (d : Tree) (ds : Trees) → is_of_sort s VariableDeclaration ≡ true → trees_form s-VariableDeclarator s-VariableDeclarator (d before ds) ≡ true → has_form s (node VariableDeclaration (made (Some (codes "var") ∷ []) []) (many (d before ds) then done)) ≡ true
var-formed s d ds e h =
    let span = no-span (Some (codes "var") ∷ []) [] in
    has_form-node s VariableDeclaration (made (Some (codes "var") ∷ []) []) (many (d before ds) then done) (record { sort = e; texts = refl; flags = refl; start = span.start; stop = span.stop; agree = refl; children = and_from _ true h refl })

declaration-formed : (s : Sort) (bs : List Bound) (ts : Trees) → is_of_sort s VariableDeclaration ≡ true → AreTexts bs → trees_form s s ts ≡ true → trees_form s s (declaration (codes "var") (map declarator bs) ts) ≡ true
declaration-formed s [] ts e h k = k
declaration-formed s (b ∷ bs) ts e h k = formed-first s (node VariableDeclaration (made (Some (codes "var") ∷ []) []) (many (trees (map declarator (b ∷ bs))) then done)) ts (var-formed s (declarator b) (trees (map declarator bs)) e (declarators-formed (b ∷ bs) h)) k

-- `var x = this;` before others
this-formed : (s : Sort) (x : Option Bound) (ts : Trees) → is_of_sort s VariableDeclaration ≡ true → HasText x → trees_form s s ts ≡ true → trees_form s s (with_this x ts) ≡ true
this-formed s None ts e h k = k
this-formed s (Some b) ts e h k = formed-first s (this_statement b) ts (var-formed s (declarator_with (identifier b) this_expression) empty e (formed-first s-VariableDeclarator (declarator_with (identifier b) this_expression) empty (rw h refl) refl)) k

-- a list with what is pending for it
pub list-formed : (P : Setting) (s : Sort) (p : Pending) (x : Option Bound) (a : Additions) (ts : Trees) → is_of_sort s VariableDeclaration ≡ true → IsListIn P p x a → trees_form s s ts ≡ true → trees_form s s (whole_list p x a ts) ≡ true
list-formed P s p x a ts e h k =
    let top = P.formed a h.top in
    let vars = subst (λ (q : Pending). trees_form s s (written q empty) ≡ true) (sym h.vars.are) (declaration-formed s h.vars.names empty e h.vars.texts refl) in
    let others = joined-formed s (trees (map import_statement a.imports)) (written p empty) (top.imports s e) vars in
    let named = this-formed s x (joined_trees (trees (map import_statement a.imports)) (written p empty)) e (P.texts x h.this) others in
    after-formed s (pending_statements p x a) ts (top.excluded s (with_this x (joined_trees (trees (map import_statement a.imports)) (written p empty))) e named) k

pub whole-formed : (s : Sort) (p : Pending) (x : Option Bound) (a : Additions) (ts : Trees) → is_of_sort s VariableDeclaration ≡ true → IsPlainList p x a → trees_form s s ts ≡ true → trees_form s s (whole_list p x a ts) ≡ true
whole-formed = list-formed temporaries_alone

-- BODIES OF ARROWS

-- an expression is no body of a function
narrower-kind : (k : AstType) → is_var_scope k ≡ false → is_of_sort s-ArrowFunctionBody k ≡ true → is_of_sort s-Expression k ≡ true
narrower-kind FunctionBody e h = absurd (cc e)
narrower-kind Program e h = absurd (cc e)
narrower-kind k e h = h

pub narrower : (t : Tree) → is_var_scope (kind_of t) ≡ false → has_form s-ArrowFunctionBody t ≡ true → IsFormed t
narrower (node k l fs) e h =
    let n = node_form s-ArrowFunctionBody k l fs h in
    has_form-node s-Expression k l fs (record { sort = narrower-kind k e n.sort; texts = n.texts; flags = n.flags; start = n.start; stop = n.stop; agree = n.agree; children = n.children })

returned-formed : (t : Tree) → IsFormed t → has_form s-Statement (return_node t) ≡ true
returned-formed t h = rw h refl

with-names : (bs : List Bound) (t : Tree) → AreTexts bs → is_var_scope (kind_of t) ≡ false → has_form s-ArrowFunctionBody t ≡ true → has_form s-ArrowFunctionBody (written_body (with_vars bs nothing_pending) t) ≡ true
with-names [] t h e k = k
with-names (b ∷ bs) t h e k =
    let span = no-span [] [] in
    let list = declaration-formed s-Statement (b ∷ bs) (return_node t before empty) refl h (formed-first s-Statement (return_node t) empty (returned-formed t (narrower t e k)) refl) in
    has_form-node s-ArrowFunctionBody FunctionBody (made [] []) (many empty then statements (declaration (codes "var") (map declarator (b ∷ bs)) (return_node t before empty)) then done) (record { sort = refl; texts = refl; flags = refl; start = span.start; stop = span.stop; agree = refl; children = and_from _ true list refl })

without-names : (bs : List Bound) (t : Tree) → has_form s-ArrowFunctionBody (written_body (with_vars bs nothing_pending) t) ≡ true → has_form s-ArrowFunctionBody t ≡ true
without-names [] t h = h
without-names (b ∷ bs) t h =
    let n = node_form s-ArrowFunctionBody FunctionBody (made [] []) (many empty then statements (declaration (codes "var") (map declarator (b ∷ bs)) (return_node t before empty)) then done) h in
    let list = (and_parts (trees_form s-Statement s-Statement (declaration (codes "var") (map declarator (b ∷ bs)) (return_node t before empty))) true n.children).0 in
    let last = (first-formed s-Statement (return_node t) empty (first-formed s-Statement (node VariableDeclaration (made (Some (codes "var") ∷ []) []) (many (trees (map declarator (b ∷ bs))) then done)) (return_node t before empty) list).1).0 in
    let r = node_form s-Statement ReturnStatement (made [] []) (one t then done) last in
    form-wider s-ArrowFunctionBody t refl (and_parts (has_form s-Expression t) true r.children).0

pub body-formed : (p : Pending) (t : Tree) → IsPlain p → IsExpression t → has_form s-ArrowFunctionBody t ≡ true → has_form s-ArrowFunctionBody (written_body p t) ≡ true
body-formed p t h e k = subst (λ (p : Pending). has_form s-ArrowFunctionBody (written_body p t) ≡ true) (sym h.are) (with-names h.names t h.texts e.no_body k)

pub body-inside : (p : Pending) (t : Tree) → IsPlain p → has_form s-ArrowFunctionBody (written_body p t) ≡ true → has_form s-ArrowFunctionBody t ≡ true
body-inside p t h k = without-names h.names t (subst (λ (p : Pending). has_form s-ArrowFunctionBody (written_body p t) ≡ true) h.are k)
