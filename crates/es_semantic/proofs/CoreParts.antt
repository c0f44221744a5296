-- The parts of a core program with their roles: its directives, its statements, and the declarators of its declarations.
use Rattle.std.proofs.Common.{◌≡◌, ℕ, zero, suc, refl, subst, List, [], ◌∷◌, cond}
use Rattle.std.proofs.lemmas.Bool.{and_parts, and_from}
use Rattle.std.specs.Cmp.Lexicographic.{bytes_decides}
use Rattle.std.specs.Prelude.{Bool, true, false, ◌&&◌, Option, Some, None, is_some, bytes_eq, find}
use Rattle.es_tree.specs.Attributes.{child_entries, text_entries, texts_fit}
use Rattle.es_tree.specs.Core.{is_core_node, IsCoreProgram}
use Rattle.es_tree.specs.HasForm.{is_of_sort, has_form, fields_form, trees_form, sort_before_trees}
use Rattle.es_tree.specs.Names.{first_text}
use Rattle.es_tree.specs.References as core
use Rattle.es_tree.specs.Tree.{Tree, node, Label, Fields, done, ◌then◌, missing, one, many, statements, Trees, empty, ◌before◌}
use Rattle.es_tree.specs.Walks.{all_nodes, all_in_fields, all_in_trees}
use Rattle.es_tree.specs.Words.{Text, variable_declaration_kind_of, variable_declaration_kind_text}
use Rattle.es_tree.specs.declared.ast_type.AstType.{AstType}
use Rattle.es_tree.specs.declared.ast_type.AstType.TheVariants.{Program, ExpressionStatement, VariableDeclaration, VariableDeclarator, Identifier, ObjectPattern, ArrayPattern}
use Rattle.es_tree.specs.declared.operators.TheConstants.{VARIABLE_DECLARATION_KINDS}
use Rattle.es_tree.specs.declared.operators.VariableDeclarationKind.{VariableDeclarationKind}
use Rattle.es_tree.specs.declared.operators.VariableDeclarationKind.TheVariants.{Var, Let, Const, Using}
use Rattle.es_tree.specs.declared.table.Entry.{Entry}
use Rattle.es_tree.specs.declared.table.Sort.{Sort}
use Rattle.es_tree.specs.declared.table.Sort.TheVariants.{Program as s-Program, Statement as s-Statement, Directive as s-Directive, VariableDeclarator as s-VariableDeclarator, Binding as s-Binding}
use Rattle.es_tree.proofs.NodeForm.{node_form}
use Rattle.es_semantic.specs.RolesOf.{binding_of, reads, role_at}
use Rattle.es_semantic.specs.SymbolFlags.{flags_of}
use Rattle.es_semantic.specs.SymbolsOf.{symbol_flags}
use Rattle.es_semantic.specs.declared.place.Binding.{Binding}
use Rattle.es_semantic.specs.declared.place.Role.{Role}
use Rattle.es_semantic.specs.declared.place.Role.TheVariants.{Binds, Top}
use Rattle.es_semantic.proofs.CoreRoles.{core_role, InTree, InFields, InTrees, in_fields, in_node, in_trees}

-- WORDS

-- a word that declares gives its symbols the same flags by both definitions
abbrev pub HasFlags : Text → Type 0
HasFlags w = symbol_flags (binding_of w) ≡ flags_of (record { name = []; kind = w })

found : {X : Type 0} (f : X → Text) (P : Text → Type 0) (w : Text) (xs : List X) → ((x : X) → P (f x)) → is_some (find (λ x. bytes_eq (f x) w) xs) ≡ true → P w
found f P w [] all h = absurd (cc h)
found f P w (x ∷ xs) all h = at (bytes_eq (f x) w) refl h (found f P w xs all)
  where
    at : (b : Bool) → bytes_eq (f x) w ≡ b → is_some (cond b (Some x) (find (λ x. bytes_eq (f x) w) xs)) ≡ true → (is_some (find (λ x. bytes_eq (f x) w) xs) ≡ true → P w) → P w
    at true e h later = subst P ((bytes_decides (f x) w).0 e) (all x)
    at false e h later = later h

kind_flags : (k : VariableDeclarationKind) → HasFlags (variable_declaration_kind_text k)
kind_flags Var = refl
kind_flags Let = refl
kind_flags Const = refl
kind_flags Using = refl

word_flags : (ts : List (Option Text)) → texts_fit (text_entries VariableDeclaration) ts ≡ true → HasFlags (first_text ts)
word_flags (Some w ∷ ts) h = found variable_declaration_kind_text HasFlags w VARIABLE_DECLARATION_KINDS kind_flags (and_parts (is_some (variable_declaration_kind_of w)) (texts_fit [] ts) h).0
word_flags (None ∷ ts) h = absurd (cc h)
word_flags [] h = absurd (cc h)

-- PARTS

-- a declarator of a plain name
abbrev pub IsDeclarator : Tree → Type 0
IsDeclarator (node VariableDeclarator l (one (node Identifier m gs) then fs)) = Unit {0}
IsDeclarator _ = ⊥

abbrev pub AreDeclarators : Trees → Type 0
AreDeclarators empty = Unit {0}
AreDeclarators (t before ts) = IsDeclarator t × AreDeclarators ts

-- a statement of the body
abbrev pub IsItem : Tree → Type 0
IsItem (node ExpressionStatement l fs) = Unit {0}
IsItem (node VariableDeclaration l (many ts then fs)) = AreDeclarators ts × HasFlags (first_text l.texts)
IsItem _ = ⊥

abbrev pub AreItems : Trees → Type 0
AreItems empty = Unit {0}
AreItems (t before ts) = IsItem t × AreItems ts

abbrev pub HasItems : Fields → Type 0
HasItems (f then (statements ts then fs)) = AreItems ts
HasItems _ = ⊥

-- a program with its parts
abbrev pub HasParts : Tree → Type 0
HasParts (node Program l fs) = HasItems fs × InFields (λ i. role_at reads Program l fs i) (core.role_at core.reads Program l) fs
HasParts _ = ⊥

-- FROM THE FORM TO THE PARTS

abbrev rest_of : List Entry → List Entry
rest_of [] = []
rest_of (e ∷ es) = es

same_sort : (s : Sort) (ts : Trees) → sort_before_trees s s ts ≡ s
same_sort s empty = refl
same_sort s (t before ts) = refl

-- a list of one sort by its first node and the others
trees_parts : (s : Sort) (t : Tree) (ts : Trees) → trees_form s s (t before ts) ≡ true → (has_form s t ≡ true) × (trees_form s s ts ≡ true)
trees_parts s t ts h =
    let parts = and_parts (has_form (sort_before_trees s s ts) t) (trees_form s s ts) h in
    (subst (λ r. has_form r t ≡ true) (same_sort s ts) parts.0, parts.1)

named : (k : AstType) (l m : Label) (gs fs : Fields) → is_of_sort s-Binding k ≡ true → is_core_node k m gs ≡ true → IsDeclarator (node VariableDeclarator l (one (node k m gs) then fs))
named Identifier l m gs fs h c = tt
named ObjectPattern l m gs fs h c = absurd (cc c)
named ArrayPattern l m gs fs h c = absurd (cc c)
named k l m gs fs h c = absurd (cc h)

names_first : (l : Label) (fs : Fields) → fields_form VariableDeclarator l (child_entries VariableDeclarator) fs ≡ true → all_in_fields is_core_node fs ≡ true → IsDeclarator (node VariableDeclarator l fs)
names_first l (one (node k m gs) then fs) h c =
    let form = and_parts (has_form s-Binding (node k m gs)) (fields_form VariableDeclarator l (rest_of (child_entries VariableDeclarator)) fs) h in
    let below = and_parts (all_nodes is_core_node (node k m gs)) (all_in_fields is_core_node fs) c in
    named k l m gs fs (node_form s-Binding k m gs form.0).sort (and_parts (is_core_node k m gs) (all_in_fields is_core_node gs) below.0).0
names_first l done h c = absurd (cc h)
names_first l (missing then fs) h c = absurd (cc h)
names_first l (many ts then fs) h c = absurd (cc h)
names_first l (statements ts then fs) h c = absurd (cc h)

declarator_roles : (b : Binding) (l : Label) (fs : Fields) (i : ℕ) → core_role (role_at (Binds b) VariableDeclarator l fs i) ≡ core.role_at core.reads VariableDeclarator l i
declarator_roles b l fs zero = refl
declarator_roles b l fs (suc i) = refl

declarator_in : (b : Binding) (t : Tree) → has_form s-VariableDeclarator t ≡ true → all_nodes is_core_node t ≡ true → IsDeclarator t × InTree (Binds b) core.reads t
declarator_in b (node VariableDeclarator l fs) h c =
    let form = (node_form s-VariableDeclarator VariableDeclarator l fs h).children in
    let roles : ℕ → Role = λ i. role_at (Binds b) VariableDeclarator l fs i in
    let below = in_fields VariableDeclarator l false roles (core.role_at core.reads VariableDeclarator l) (child_entries VariableDeclarator) fs (declarator_roles b l fs) (λ e. absurd (cc e)) refl form c in
    (names_first l fs form c, (refl, refl, below))
declarator_in b (node k l fs) h c = absurd (cc (node_form s-VariableDeclarator k l fs h).sort)

declarators_in : (b : Binding) (ts : Trees) → trees_form s-VariableDeclarator s-VariableDeclarator ts ≡ true → all_in_trees is_core_node ts ≡ true → AreDeclarators ts × InTrees (Binds b) ts
declarators_in b empty h c = (tt, tt)
declarators_in b (t before ts) h c =
    let form = trees_parts s-VariableDeclarator t ts h in
    let below = and_parts (all_nodes is_core_node t) (all_in_trees is_core_node ts) c in
    let here = declarator_in b t form.0 below.0 in
    let later = declarators_in b ts form.1 below.1 in
    ((here.0, later.0), (here.1, later.1))

declaration_in : (l : Label) (fs : Fields) → texts_fit (text_entries VariableDeclaration) l.texts ≡ true → fields_form VariableDeclaration l (child_entries VariableDeclaration) fs ≡ true → all_in_fields is_core_node fs ≡ true
    → IsItem (node VariableDeclaration l fs) × InTree Top core.reads (node VariableDeclaration l fs)
declaration_in l (many (t before ts) then fs) w h c =
    let form = and_parts (trees_form s-VariableDeclarator s-VariableDeclarator (t before ts)) (fields_form VariableDeclaration l [] fs) h in
    let below = and_parts (all_in_trees is_core_node (t before ts)) (all_in_fields is_core_node fs) c in
    let own = declarators_in (binding_of (first_text l.texts)) (t before ts) form.0 below.0 in
    let all : Fields = many (t before ts) then fs in
    let roles : ℕ → Role = λ i. role_at Top VariableDeclaration l all (suc i) in
    let rest = in_fields VariableDeclaration l false roles (λ i. core.role_at core.reads VariableDeclaration l (suc i)) [] fs (λ i. refl) (λ e. absurd (cc e)) refl form.1 below.1 in
    ((own.0, word_flags l.texts w), (refl, refl, (own.1, rest)))
declaration_in l (many empty then fs) w h c = absurd (cc h)
declaration_in l done w h c = absurd (cc h)
declaration_in l (missing then fs) w h c = absurd (cc h)
declaration_in l (one t then fs) w h c = absurd (cc h)
declaration_in l (statements ts then fs) w h c = absurd (cc h)

item_in : (t : Tree) → has_form s-Statement t ≡ true → all_nodes is_core_node t ≡ true → IsItem t × InTree Top core.reads t
item_in (node ExpressionStatement l fs) h c = (tt, in_node ExpressionStatement l fs Top core.reads refl (node_form s-Statement ExpressionStatement l fs h).children c tt)
item_in (node VariableDeclaration l fs) h c =
    let form = node_form s-Statement VariableDeclaration l fs h in
    declaration_in l fs form.texts form.children (and_parts (is_core_node VariableDeclaration l fs) (all_in_fields is_core_node fs) c).1
item_in (node k l fs) h c =
    absurd (cc (and_from (is_of_sort s-Statement k) (is_core_node k l fs) (node_form s-Statement k l fs h).sort (and_parts (is_core_node k l fs) (all_in_fields is_core_node fs) c).0))

items_in : (ts : Trees) → trees_form s-Statement s-Statement ts ≡ true → all_in_trees is_core_node ts ≡ true → AreItems ts × InTrees Top ts
items_in empty h c = (tt, tt)
items_in (t before ts) h c =
    let form = trees_parts s-Statement t ts h in
    let below = and_parts (all_nodes is_core_node t) (all_in_trees is_core_node ts) c in
    let here = item_in t form.0 below.0 in
    let later = items_in ts form.1 below.1 in
    ((here.0, later.0), (here.1, later.1))

program_in : (l : Label) (fs : Fields) → fields_form Program l (child_entries Program) fs ≡ true → all_in_fields is_core_node fs ≡ true → HasParts (node Program l fs)
program_in l (many ds then (statements body then fs)) h c =
    let form = and_parts (trees_form s-Directive s-Directive ds) (trees_form s-Statement s-Statement body && fields_form Program l [] fs) h in
    let last = and_parts (trees_form s-Statement s-Statement body) (fields_form Program l [] fs) form.1 in
    let below = and_parts (all_in_trees is_core_node ds) (all_in_trees is_core_node body && all_in_fields is_core_node fs) c in
    let inside = and_parts (all_in_trees is_core_node body) (all_in_fields is_core_node fs) below.1 in
    let items = items_in body last.0 inside.0 in
    let all : Fields = many ds then (statements body then fs) in
    let roles : ℕ → Role = λ i. role_at reads Program l all (suc (suc i)) in
    let rest = in_fields Program l false roles (λ i. core.role_at core.reads Program l (suc (suc i))) [] fs (λ i. refl) (λ e. absurd (cc e)) refl last.1 inside.1 in
    (items.0, (in_trees s-Directive s-Directive reads ds refl refl form.0 below.0 refl, (items.1, rest)))
program_in l (many ds then done) h c = absurd (cc (and_parts (trees_form s-Directive s-Directive ds) false h).1)
program_in l (many ds then (missing then fs)) h c = absurd (cc (and_parts (trees_form s-Directive s-Directive ds) false h).1)
program_in l (many ds then (one t then fs)) h c = absurd (cc (and_parts (trees_form s-Directive s-Directive ds) false h).1)
program_in l (many ds then (many ts then fs)) h c = absurd (cc (and_parts (trees_form s-Directive s-Directive ds) false h).1)
program_in l done h c = absurd (cc h)
program_in l (missing then fs) h c = absurd (cc h)
program_in l (one t then fs) h c = absurd (cc h)
program_in l (statements ts then fs) h c = absurd (cc h)

pub core-parts : (p : Tree) → IsCoreProgram p → HasParts p
core-parts (node Program l fs) is = program_in l fs (node_form s-Program Program l fs is.form).children is.core
core-parts (node k l fs) is = absurd (cc (node_form s-Program k l fs is.form).sort)
