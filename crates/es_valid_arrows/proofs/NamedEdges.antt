-- Where no `this` stands in a program that has form: what binds a name, and lists of statements.
use Rattle.std.proofs.Common.{◌≡◌, ◌==◌, ℕ, zero, suc, refl, sym, subst, List, [], ◌∷◌, ◌++◌}
use Rattle.std.specs.Prelude.{◌&&◌, ◌||◌, not, Bool, true, false, Some, if◌then◌else◌}
use Rattle.std.proofs.lemmas.Bool.{and_parts}
use Rattle.es_tree.specs.Ancestors.{Ancestor, ancestor, leads_by}
use Rattle.es_tree.specs.Attributes.{child_entries, flag_entries}
use Rattle.es_tree.specs.Children.{child_at}
use Rattle.es_tree.specs.DeclaredNames.{Name, bound_names, catch_names, declaration_names, exports_of, function_names, lexical_names, parameter_names}
use Rattle.es_tree.specs.HasForm.{ElementsPlace, element_form, elements_form, elements_of, field_form, fields_form, flag_of, has_form, is_computed, same_type, sort_at, sort_before_fields}
use Rattle.es_tree.specs.Names.{flag_at}
use Rattle.es_tree.specs.Tree.{Tree, node, Label, Fields, done, ◌then◌, Field, missing, one, many, statements, Trees, empty, ◌before◌, kind_of}
use Rattle.es_tree.specs.Words.{Text}
use Rattle.es_tree.specs.declared.ast_type.AstType.{AstType}
use Rattle.es_tree.specs.declared.ast_type.AstType.TheVariants.{ArrayExpression, ArrayPattern, ArrayTarget, BlockStatement, CatchClause, ClassDeclaration, ExportNamedDeclaration, ExportSpecifier, FunctionBody, FunctionDeclaration, MethodDefinition, Program, StaticBlock, SwitchCase, ThisExpression, VariableDeclarator}
use Rattle.es_tree.specs.declared.table.Content.{Content}
use Rattle.es_tree.specs.declared.table.Content.TheVariants.{Child as c-Child}
use Rattle.es_tree.specs.declared.table.Entry.{Entry}
use Rattle.es_tree.specs.declared.table.FieldName.TheVariants.{Computed as f-Computed}
use Rattle.es_tree.specs.declared.table.Often.TheVariants.{Statements}
use Rattle.es_tree.specs.declared.table.Sort.{Sort}
use Rattle.es_tree.specs.declared.table.Sort.TheVariants.{Expression as s-Expression, PropertyKey as s-PropertyKey}
use Rattle.es_semantic.proofs.FormEdges.{Edges, EdgesAll, EdgesIn, ElementsFit, by-option, edges-inside, elements-are, entries_fit, same-kind}
use Rattle.es_tree.proofs.NodeForm.{node_form}
use Rattle.es_steps.specs.Nodes.{joined_trees}
use Rattle.es_steps.specs.Open.{after_imports, is_import}
use Rattle.es_valid_names.proofs.Claims.{Stand, above, is_local, specified, stand_in}
use Rattle.es_valid_names.proofs.Mute.{Free, is_imported, is_parameter, is_part}
use Rattle.es_valid_steps.specs.ArrowNodes.{is_kind_within}
use Rattle.es_valid_arrows.proofs.NamedRules.{Unbound}

-- WHERE NO `this` STANDS: what binds a name, the local name of an export, and lists of statements

abbrev pub is_list : AstType → ℕ → Bool
is_list k i = same_type k Program || same_type k FunctionBody || same_type k BlockStatement || same_type k StaticBlock || (same_type k SwitchCase && i == 1)

abbrev binds : Ancestor → Bool
binds a = is_part a || leads_by VariableDeclarator 0 a || leads_by FunctionDeclaration 0 a || is_parameter a || leads_by ClassDeclaration 0 a || leads_by CatchClause 0 a || is_imported a

abbrev pub is_binding : AstType → ℕ → Bool
is_binding k i = binds (ancestor k (record { id = 0; start = 0; stop = 0; texts = []; flags = []; marks = [] }) done i 0) || (same_type k ExportSpecifier && i == 0) || (same_type k ExportNamedDeclaration && i == 0) || is_list k i

abbrev pub binding : AstType → ℕ → Bool → AstType → Bool
binding k i last j = not (same_type j ThisExpression) || not (is_binding k i)

entries-fit : (k : AstType) → entries_fit binding k 0 (child_entries k) ≡ true
entries-fit Program = refl
entries-fit _ = refl

elements-fit : (k : AstType) (p : ElementsPlace) → elements_of (child_entries k) ≡ Some p → ElementsFit binding k p
elements-fit ArrayExpression p e = elements-are binding ArrayExpression _ p e (record { sort = λ i b. refl; last = λ i b. refl })
elements-fit ArrayPattern p e = elements-are binding ArrayPattern _ p e (record { sort = λ i b. refl; last = λ i b. refl })
elements-fit ArrayTarget p e = elements-are binding ArrayTarget _ p e (record { sort = λ i b. refl; last = λ i b. refl })
elements-fit _ p e = absurd (cc e)

pub edges-binding : (s : Sort) (k : AstType) (l : Label) (fs : Fields) → has_form s (node k l fs) ≡ true → EdgesIn binding k 0 fs
edges-binding = edges-inside binding (record { entries = entries-fit; elements = elements-fit })

-- `this` stands in no such field
pub this-edge : (k : AstType) (i : ℕ) (last : Bool) (t : Tree) → Edges binding k i last t → same_type (kind_of t) ThisExpression ≡ true → is_binding k i ≡ false
this-edge k i last (node j l fs) h e = at (is_binding k i) (same_type j ThisExpression) h.0 e
  where
    at : (a b : Bool) → (not b || not a) ≡ true → b ≡ true → a ≡ false
    at true true h e = absurd (cc h)
    at true false h e = absurd (cc e)
    at false b h e = refl

or-left : (a b : Bool) → (a || b) ≡ false → a ≡ false
or-left true b e = absurd (cc e)
or-left false b e = refl

no-first : (a b c d : Bool) → (a || b || c || d) ≡ false → a ≡ false
no-first a b c d e = or-left a b (or-left (a || b) c (or-left (a || b || c) d e))

nothing-bound : (b1 b2 b3 b4 b5 b6 b7 : Bool) (x1 x2 x3 x4 x5 x6 x7 : List Name) → (b1 || b2 || b3 || b4 || b5 || b6 || b7) ≡ false → (if b1 then x1 else if b2 then x2 else if b3 then x3 else if b4 then x4 else if b5 then x5 else if b6 then x6 else if b7 then x7 else []) ≡ []
nothing-bound true b2 b3 b4 b5 b6 b7 x1 x2 x3 x4 x5 x6 x7 e = absurd (cc e)
nothing-bound false true b3 b4 b5 b6 b7 x1 x2 x3 x4 x5 x6 x7 e = absurd (cc e)
nothing-bound false false true b4 b5 b6 b7 x1 x2 x3 x4 x5 x6 x7 e = absurd (cc e)
nothing-bound false false false true b5 b6 b7 x1 x2 x3 x4 x5 x6 x7 e = absurd (cc e)
nothing-bound false false false false true b6 b7 x1 x2 x3 x4 x5 x6 x7 e = absurd (cc e)
nothing-bound false false false false false true b7 x1 x2 x3 x4 x5 x6 x7 e = absurd (cc e)
nothing-bound false false false false false false true x1 x2 x3 x4 x5 x6 x7 e = absurd (cc e)
nothing-bound false false false false false false false x1 x2 x3 x4 x5 x6 x7 e = refl

unbound-here : (k : AstType) (l : Label) (all : Fields) (i m : ℕ) (up : List Ancestor) → is_binding k i ≡ false → (x : Text) → bound_names (above k l all i m ∷ up) x ≡ []
unbound-here k l all i m up e x =
    let a = above k l all i m in
    nothing-bound (is_part a) (leads_by VariableDeclarator 0 a) (leads_by FunctionDeclaration 0 a) (is_parameter a) (leads_by ClassDeclaration 0 a) (leads_by CatchClause 0 a) (is_imported a) (bound_names up x) (declaration_names up x) (function_names up x ++ exports_of up x) (parameter_names m x) (lexical_names up x ++ exports_of up x) (catch_names a x) (lexical_names up x) (no-first (binds a) _ _ _ e)

pub edge-unbound : (k : AstType) (l : Label) (all : Fields) (i m : ℕ) (up : List Ancestor) (last : Bool) (t : Tree) → Edges binding k i last t → Unbound (above k l all i m ∷ up) t
edge-unbound k l all i m up last t h e x = subst (λ (ns : List Name). Free ns) (sym (unbound-here k l all i m up (this-edge k i last t h e) x)) tt

pub unlocal : (st : Stand) (k : AstType) (fs : Fields) (i : ℕ) → is_binding k i ≡ false → is_local (stand_in st k fs i) ≡ false
unlocal st ExportSpecifier fs zero e = absurd (cc e)
unlocal st k fs zero e = first k e
  where
    first : (k : AstType) → is_binding k 0 ≡ false → is_local (stand_in st k fs 0) ≡ false
    first ExportSpecifier e = absurd (cc e)
    first _ e = refl
unlocal st k fs (suc zero) e = second k
  where
    at : (b : Bool) → is_local (specified b) ≡ false
    at true = refl
    at false = refl

    second : (k : AstType) → is_local (stand_in st k fs 1) ≡ false
    second ExportNamedDeclaration = at _
    second _ = refl
unlocal st k fs (suc (suc i)) e = third k
  where
    third : (k : AstType) → is_local (stand_in st k fs (suc (suc i))) ≡ false
    third Program = refl
    third _ = refl

-- LISTS of statements

abbrev content_list : AstType → ℕ → Content → Bool
content_list k i (c-Child s Statements) = is_list k i
content_list k i c = true

abbrev entries_list : AstType → ℕ → List Entry → Bool
entries_list k i [] = true
entries_list k i (e ∷ es) = content_list k i e.content && entries_list k (suc i) es

all-lists : (k : AstType) → entries_list k 0 (child_entries k) ≡ true
all-lists Program = refl
all-lists _ = refl

-- a list in this field is one of statements
abbrev pub ListField : AstType → ℕ → Field → Type 0
ListField k i (statements ts) = is_list k i ≡ true
ListField k i f = Unit {0}

-- in these fields, from the i-th on
abbrev pub AreLists : AstType → ℕ → Fields → Type 0
AreLists k i done = Unit {0}
AreLists k i (f then fs) = ListField k i f × AreLists k (suc i) fs

list-at : (k : AstType) (l : Label) (i : ℕ) (c : Content) (ts : Trees) → content_list k i c ≡ true → field_form k l c (statements ts) ≡ true → is_list k i ≡ true
list-at k l i (c-Child s Statements) ts e h = e
list-at k l i c ts e h = absurd (cc h)

entries-lists : (k : AstType) (l : Label) (i : ℕ) (es : List Entry) (fs : Fields) → entries_list k i es ≡ true → fields_form k l es fs ≡ true → AreLists k i fs
entries-lists k l i [] done e h = tt
entries-lists k l i (x ∷ es) (statements ts then fs) e h = let p = and_parts (field_form k l x.content (statements ts)) (fields_form k l es fs) h in let q = and_parts (content_list k i x.content) (entries_list k (suc i) es) e in (list-at k l i x.content ts q.0 p.0, entries-lists k l (suc i) es fs q.1 p.1)
entries-lists k l i (x ∷ es) (missing then fs) e h = let p = and_parts (field_form k l x.content missing) (fields_form k l es fs) h in (tt, entries-lists k l (suc i) es fs (and_parts (content_list k i x.content) (entries_list k (suc i) es) e).1 p.1)
entries-lists k l i (x ∷ es) (one t then fs) e h = let p = and_parts (field_form k l x.content (one t)) (fields_form k l es fs) h in (tt, entries-lists k l (suc i) es fs (and_parts (content_list k i x.content) (entries_list k (suc i) es) e).1 p.1)
entries-lists k l i (x ∷ es) (many ts then fs) e h = let p = and_parts (field_form k l x.content (many ts)) (fields_form k l es fs) h in (tt, entries-lists k l (suc i) es fs (and_parts (content_list k i x.content) (entries_list k (suc i) es) e).1 p.1)
entries-lists k l i [] (f then fs) e h = absurd (cc h)
entries-lists k l i (x ∷ es) done e h = absurd (cc h)

elements-lists : (k : AstType) (i : ℕ) (s last : Sort) (fs : Fields) → elements_form s last fs ≡ true → AreLists k i fs
elements-lists k i s last done h = tt
elements-lists k i s last (statements ts then fs) h = absurd (cc h)
elements-lists k i s last (missing then fs) h = (tt, elements-lists k (suc i) s last fs h)
elements-lists k i s last (one t then fs) h = (tt, elements-lists k (suc i) s last fs (and_parts (element_form (sort_before_fields s last fs) (one t)) (elements_form s last fs) h).1)
elements-lists k i s last (many ts then fs) h = absurd (cc h)

pub node-lists : (a : Sort) (k : AstType) (l : Label) (fs : Fields) → has_form a (node k l fs) ≡ true → AreLists k 0 fs
node-lists a k l fs f = by-option (elements_of (child_entries k)) (fields_form k l (child_entries k) fs) (λ p. elements_form p.sort p.last fs) (AreLists k 0 fs) (node_form a k l fs f).children (λ h. entries-lists k l 0 (child_entries k) fs (all-lists k) h) (λ p e h. elements-lists k 0 p.sort p.last fs h)

abbrev pub NoThis : Trees → Type 0
NoThis empty = Unit {0}
NoThis (t before ts) = (same_type (kind_of t) ThisExpression ≡ false) × NoThis ts

list-binding : (k : AstType) (i : ℕ) → is_list k i ≡ true → is_binding k i ≡ true
list-binding k i e = at _ (is_list k i) e
  where
    at : (a b : Bool) → b ≡ true → (a || b) ≡ true
    at true b e = refl
    at false b e = e

pub no-this : (k : AstType) (i : ℕ) (ts : Trees) → is_list k i ≡ true → EdgesAll binding k i ts → NoThis ts
no-this k i empty e h = tt
no-this k i (node j l fs before ts) e h = (at (same_type j ThisExpression) (is_binding k i) (list-binding k i e) h.0.0, no-this k i ts e h.1)
  where
    at : (a b : Bool) → b ≡ true → (not a || not b) ≡ true → a ≡ false
    at true true d g = absurd (cc g)
    at true false d g = absurd (cc d)
    at false b d g = refl

-- among statements that others stand before

edges-joined : (k : AstType) (i : ℕ) (bs ts : Trees) → EdgesAll binding k i (joined_trees bs ts) → EdgesAll binding k i ts
edges-joined k i empty ts h = h
edges-joined k i (b before bs) ts h = edges-joined k i bs ts h.1

pub edges-after : (k : AstType) (i : ℕ) (bs ts : Trees) → EdgesAll binding k i (after_imports bs ts) → EdgesAll binding k i ts
edges-after k i bs empty h = tt
edges-after k i bs (t before ts) h = at (is_import t) (λ g. edges-after k i bs ts g) h
  where
    at : (v : Bool) → (EdgesAll binding k i (after_imports bs ts) → EdgesAll binding k i ts) → EdgesAll binding k i (if v then t before after_imports bs ts else joined_trees bs (t before ts)) → EdgesAll binding k i (t before ts)
    at true r g = (g.0, r g.1)
    at false r g = edges-joined k i bs (t before ts) g

-- THE FIRST FIELD of what binds, and of a method

pub first-binding : (k : AstType) (fs : Fields) → is_binding k 0 ≡ true → EdgesIn binding k 0 fs → is_kind_within ThisExpression (child_at 0 fs) ≡ false
first-binding k done e h = refl
first-binding k (missing then fs) e h = refl
first-binding k (one (node j l hs) then fs) e h = at (same_type j ThisExpression) (is_binding k 0) e h.0.0
  where
    at : (a b : Bool) → b ≡ true → (not a || not b) ≡ true → a ≡ false
    at true true d g = absurd (cc g)
    at true false d g = absurd (cc d)
    at false b d g = refl
first-binding k (many ts then fs) e h = refl
first-binding k (statements ts then fs) e h = refl

computed-flag : (bs : List Bool) → flag_of f-Computed (flag_entries MethodDefinition) bs ≡ true → flag_at 1 bs ≡ true
computed-flag [] e = absurd (cc e)
computed-flag (b ∷ []) e = absurd (cc e)
computed-flag (b ∷ (c ∷ bs)) e = e

computed-this : (l m : Label) (hs : Fields) → has_form (sort_at MethodDefinition l s-PropertyKey) (node ThisExpression m hs) ≡ true → is_computed MethodDefinition l ≡ true
computed-this l m hs h = at (is_computed MethodDefinition l) h
  where
    at : (b : Bool) → has_form (if b then s-Expression else s-PropertyKey) (node ThisExpression m hs) ≡ true → b ≡ true
    at true h = refl
    at false h = absurd (let no : false ≡ true = (node_form s-PropertyKey ThisExpression m hs h).sort in cc no)

-- where `this` is the key of a method, the key is computed
pub method-this : (a : Sort) (l : Label) (fs : Fields) → has_form a (node MethodDefinition l fs) ≡ true → is_kind_within ThisExpression (child_at 0 fs) ≡ true → flag_at 1 l.flags ≡ true
method-this a l done f e = absurd (cc e)
method-this a l (missing then fs) f e = absurd (cc e)
method-this a l (one (node j m hs) then fs) f e =
    let key = (and_parts (has_form (sort_at MethodDefinition l s-PropertyKey) (node j m hs)) _ (node_form a MethodDefinition l (one (node j m hs) then fs) f).children).0 in
    computed-flag l.flags (computed-this l m hs (subst (λ (k : AstType). has_form (sort_at MethodDefinition l s-PropertyKey) (node k m hs) ≡ true) (same-kind j ThisExpression e) key))
method-this a l (many ts then fs) f e = absurd (cc e)
method-this a l (statements ts then fs) f e = absurd (cc e)
