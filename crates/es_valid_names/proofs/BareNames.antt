-- Ids and marks mean nothing to the rules of declared names.
use Rattle.std.proofs.Common.{◌≡◌, ◌==◌, ◌+◌, ℕ, suc, refl, sym, ap, subst, ◌∙◌, List, [], ◌∷◌, ◌++◌, filter, map, cond}
use Rattle.std.specs.Prelude.{Bool, true, false, not, ◌&&◌, ◌||◌, if◌then◌else◌, bytes_eq, codes, is_some}
use Rattle.std.specs.List.{list_any}
use Rattle.std.proofs.lemmas.List.{map-append}
use Rattle.es_tree.specs.Ancestors.{Ancestor, Visit, ancestor, classes, is_boundary, is_class, is_module, is_scope, leads_by, scopes, stands_in, visit, visits, visits_in_field, visits_in_fields, visits_in_trees}
use Rattle.es_tree.specs.Bare.{bare, bare_field, bare_fields, bare_label, bare_trees}
use Rattle.es_tree.specs.Children.{child_at, only_child}
use Rattle.es_tree.specs.CoreStaticRules.{Break, is_lexical, is_name}
use Rattle.es_tree.specs.DeclaredNames.{Name, bound_names, constructor_names, declaration_names, declared, export_name, exported_names, exports_of, is_class_key, is_declared, name, names_in_scope, parameter_names, private_names}
use Rattle.es_tree.specs.HasForm.{same_type}
use Rattle.es_tree.specs.Names.{first_text, flag_at, third_stands}
use Rattle.es_tree.specs.StaticRules.{all_names, all_rules, is_binding_space, is_class_space, is_export_space, is_plain_key, any_has_node, breaks_after, breaks_at, declared_by, has_clash, has_node, is_accessor_word, is_bad_class, is_bad_export, is_broken, is_constructor_key, is_crowded_export, is_local_export}
use Rattle.es_tree.specs.Tree.{Tree, node, Label, Fields, done, ◌then◌, Field, missing, one, many, statements, Trees, empty, ◌before◌, field_size, fields_size, label_of, tree_size, trees_size}
use Rattle.es_tree.specs.Words.{Text}
use Rattle.es_tree.specs.declared.ast_type.AstType.{AstType}
use Rattle.es_tree.specs.declared.ast_type.AstType.TheVariants.{BlockStatement, CatchClause, ClassDeclaration, ExportAllDeclaration, ExportDefaultDeclaration, ExportNamedDeclaration, ExportSpecifier, FunctionBody, FunctionDeclaration, Identifier, MethodDefinition, PrivateIdentifier, Program, StaticBlock, StringLiteral, VariableDeclaration, VariableDeclarator}
use Rattle.es_tree.specs.declared.place.Namespace.TheVariants.{PrivateNames, Scope}
use Rattle.es_tree.specs.declared.error.Rule.{Rule}
use Rattle.es_tree.specs.declared.error.Rule.TheVariants.{BadClass, BadExport, DuplicateName}
use Rattle.es_valid_steps.specs.PlaceRules.{place_rules}
use Rattle.es_valid_names.specs.Laws.{LawBareDeclared, LawBareNames, LawDeclaredAmong, LawTogether, declared_rules, name_rules}
use Rattle.es_valid_names.proofs.Mute.{is_imported, is_parameter, is_part}

-- ANCESTORS

abbrev bared : Ancestor → Ancestor
bared a = ancestor a.kind (bare_label a.label) (bare_fields a.fields) a.index a.number

abbrev bare_up : List Ancestor → List Ancestor
bare_up [] = []
bare_up (a ∷ up) = bared a ∷ bare_up up

stands-bare : (k : AstType) (i : ℕ) (up : List Ancestor) → stands_in k i (bare_up up) ≡ stands_in k i up
stands-bare k i [] = refl
stands-bare k i (a ∷ up) = refl

scopes-bare : (up : List Ancestor) → scopes (bare_up up) ≡ scopes up
scopes-bare [] = refl
scopes-bare (a ∷ up) = λ i. if is_scope a.kind && not (same_type a.kind BlockStatement && stands-bare CatchClause 1 up i) then (if is_boundary a.kind then a.number ∷ [] else a.number ∷ scopes-bare up i) else scopes-bare up i

module-bare : (up : List Ancestor) → is_module (bare_up up) ≡ is_module up
module-bare [] = refl
module-bare (a ∷ up) = λ i. (same_type a.kind Program && bytes_eq (first_text a.label.texts) (codes "module")) || module-bare up i

classes-bare : (up : List Ancestor) → classes (bare_up up) ≡ classes up
classes-bare [] = refl
classes-bare (a ∷ up) = λ i. if is_class a.kind && a.index == 2 then a.number ∷ classes-bare up i else classes-bare up i

only-bare : (f : Field) → is_name (only_child (bare_field f)) ≡ is_name (only_child f)
only-bare missing = refl
only-bare (one (node Identifier l fs)) = refl
only-bare (one (node _ l fs)) = refl
only-bare (many ts) = refl
only-bare (statements ts) = refl

first-bare : (fs : Fields) → is_name (child_at 0 (bare_fields fs)) ≡ is_name (child_at 0 fs)
first-bare done = refl
first-bare (f then fs) = only-bare f

-- NAMES

exports-bare : (up : List Ancestor) (x : Text) → exports_of (bare_up up) x ≡ exports_of up x
exports-bare up x = λ i. if stands-bare ExportNamedDeclaration 0 up i then export_name x else []

lexical-bare : (up : List Ancestor) (x : Text) (b : Bool) → names_in_scope (scopes (bare_up up)) x b ≡ names_in_scope (scopes up) x b
lexical-bare up x b = λ i. names_in_scope (scopes-bare up i) x b

declaration-bare : (up : List Ancestor) (x : Text) → declaration_names (bare_up up) x ≡ declaration_names up x
declaration-bare [] x = refl
declaration-bare (d ∷ up) x = λ i. if same_type d.kind VariableDeclaration then (if is_lexical (first_text d.label.texts) then lexical-bare up x true i else map (λ n. name Scope n x false) (scopes-bare up i)) ++ exports-bare up x i else []

bound-bare : (up : List Ancestor) (x : Text) → bound_names (bare_up up) x ≡ bound_names up x
bound-bare [] x = refl
bound-bare (a ∷ up) x =
    λ i. if is_part a then bound-bare up x i
    else if leads_by VariableDeclarator 0 a then declaration-bare up x i
    else if leads_by FunctionDeclaration 0 a then names_in_scope (scopes-bare up i) x (not (stands-bare FunctionBody 1 up i || stands-bare StaticBlock 0 up i || (stands-bare Program 1 up i && not (module-bare up i)))) ++ exports-bare up x i
    else if is_parameter a then parameter_names a.number x
    else if leads_by ClassDeclaration 0 a then lexical-bare up x true i ++ exports-bare up x i
    else if leads_by CatchClause 0 a then name Scope a.number x (not (first-bare a.fields i)) ∷ []
    else if is_imported a then lexical-bare up x true i
    else []

exported-bare : (up : List Ancestor) (x : Text) → exported_names (bare_up up) x ≡ exported_names up x
exported-bare up x = λ i. if stands-bare ExportSpecifier 1 up i || stands-bare ExportAllDeclaration 0 up i then export_name x else []

private-bare : (up : List Ancestor) (x : Text) → private_names (bare_up up) x ≡ private_names up x
private-bare [] x = refl
private-bare (a ∷ []) x = refl
private-bare (a ∷ (c ∷ up)) x = refl

constructor-bare : (up : List Ancestor) (x : Text) → constructor_names (bare_up up) x ≡ constructor_names up x
constructor-bare [] x = refl
constructor-bare (c ∷ up) x = refl

declared-bare : (up : List Ancestor) (t : Tree) → declared (bare_up up) (bare t) ≡ declared up t
declared-bare up (node Identifier l fs) = λ i. bound-bare up (first_text l.texts) i ++ exported-bare up (first_text l.texts) i
declared-bare up (node StringLiteral l fs) = exported-bare up (first_text l.texts)
declared-bare up (node PrivateIdentifier l fs) = private-bare up (first_text l.texts)
declared-bare up (node MethodDefinition l fs) = constructor-bare up (first_text l.texts)
declared-bare up (node _ l fs) = refl

-- VISITS

mutual
  tree-size : (t : Tree) → tree_size (bare t) ≡ tree_size t
  tree-size (node k l fs) = ap suc (fields-size fs)

  fields-size : (fs : Fields) → fields_size (bare_fields fs) ≡ fields_size fs
  fields-size done = refl
  fields-size (f then fs) = λ i. field-size f i + fields-size fs i

  field-size : (f : Field) → field_size (bare_field f) ≡ field_size f
  field-size missing = refl
  field-size (one t) = tree-size t
  field-size (many ts) = trees-size ts
  field-size (statements ts) = trees-size ts

  trees-size : (ts : Trees) → trees_size (bare_trees ts) ≡ trees_size ts
  trees-size empty = refl
  trees-size (t before ts) = λ i. tree-size t i + trees-size ts i

abbrev bare_visit : Visit → Visit
bare_visit v = visit (bare_up v.ancestors) v.number (bare v.tree)

mutual
  visits-bare : (up : List Ancestor) (n : ℕ) (t : Tree) → visits (bare_up up) n (bare t) ≡ map bare_visit (visits up n t)
  visits-bare up n (node k l fs) = ap (λ vs. visit (bare_up up) n (bare (node k l fs)) ∷ vs) (fields-bare up k l fs n 0 (suc n) fs)

  fields-bare : (up : List Ancestor) (k : AstType) (l : Label) (all : Fields) (n i m : ℕ) (fs : Fields) → visits_in_fields (bare_up up) k (bare_label l) (bare_fields all) n i m (bare_fields fs) ≡ map bare_visit (visits_in_fields up k l all n i m fs)
  fields-bare up k l all n i m done = refl
  fields-bare up k l all n i m (f then fs) =
      (λ x. field-bare (ancestor k l all i n ∷ up) m f x ++ visits_in_fields (bare_up up) k (bare_label l) (bare_fields all) n (suc i) (m + field-size f x) (bare_fields fs))
      ∙ (λ x. map bare_visit (visits_in_field (ancestor k l all i n ∷ up) m f) ++ fields-bare up k l all n (suc i) (m + field_size f) fs x)
      ∙ sym (map-append bare_visit (visits_in_field (ancestor k l all i n ∷ up) m f) (visits_in_fields up k l all n (suc i) (m + field_size f) fs))

  field-bare : (up : List Ancestor) (m : ℕ) (f : Field) → visits_in_field (bare_up up) m (bare_field f) ≡ map bare_visit (visits_in_field up m f)
  field-bare up m missing = refl
  field-bare up m (one t) = visits-bare up m t
  field-bare up m (many ts) = trees-bare up m ts
  field-bare up m (statements ts) = trees-bare up m ts

  trees-bare : (up : List Ancestor) (m : ℕ) (ts : Trees) → visits_in_trees (bare_up up) m (bare_trees ts) ≡ map bare_visit (visits_in_trees up m ts)
  trees-bare up m empty = refl
  trees-bare up m (t before ts) =
      (λ x. visits-bare up m t x ++ visits_in_trees (bare_up up) (m + tree-size t x) (bare_trees ts))
      ∙ (λ x. map bare_visit (visits up m t) ++ trees-bare up (m + tree_size t) ts x)
      ∙ sym (map-append bare_visit (visits up m t) (visits_in_trees up (m + tree_size t) ts))

-- THE RULES OF ONE NODE

some-bare : (f : Field) → is_some (only_child (bare_field f)) ≡ is_some (only_child f)
some-bare missing = refl
some-bare (one t) = refl
some-bare (many ts) = refl
some-bare (statements ts) = refl

no-name-bare : (fs : Fields) → is_some (child_at 0 (bare_fields fs)) ≡ is_some (child_at 0 fs)
no-name-bare done = refl
no-name-bare (f then fs) = some-bare f

third-bare : (fs : Fields) → third_stands (bare_fields fs) ≡ third_stands fs
third-bare done = refl
third-bare (a then done) = refl
third-bare (a then b then done) = refl
third-bare (a then b then missing then fs) = refl
third-bare (a then b then one t then fs) = refl
third-bare (a then b then many ts then fs) = refl
third-bare (a then b then statements ts then fs) = refl

node-bare : (f : Field) → has_node (bare_field f) ≡ has_node f
node-bare missing = refl
node-bare (one t) = refl
node-bare (many empty) = refl
node-bare (many (t before ts)) = refl
node-bare (statements ts) = refl

any-bare : (fs : Fields) → any_has_node (bare_fields fs) ≡ any_has_node fs
any-bare done = refl
any-bare (f then fs) = λ i. node-bare f i || any-bare fs i

crowded-bare : (fs : Fields) → is_crowded_export (bare_fields fs) ≡ is_crowded_export fs
crowded-bare done = refl
crowded-bare (missing then fs) = refl
crowded-bare (one t then fs) = any-bare fs
crowded-bare (many ts then fs) = refl
crowded-bare (statements ts then fs) = refl

key-of : (f : Field) → is_constructor_key (only_child (bare_field f)) ≡ is_constructor_key (only_child f)
key-of missing = refl
key-of (one (node Identifier l fs)) = refl
key-of (one (node StringLiteral l fs)) = refl
key-of (one (node _ l fs)) = refl
key-of (many ts) = refl
key-of (statements ts) = refl

key-bare : (fs : Fields) → is_constructor_key (child_at 0 (bare_fields fs)) ≡ is_constructor_key (child_at 0 fs)
key-bare done = refl
key-bare (f then fs) = key-of f

class-key-bare : (up : List Ancestor) → is_class_key (bare_up up) ≡ is_class_key up
class-key-bare [] = refl
class-key-bare (a ∷ up) = refl

local-bare : (up : List Ancestor) → is_local_export (bare_up up) ≡ is_local_export up
local-bare [] = refl
local-bare (a ∷ []) = refl
local-bare (a ∷ (b ∷ up)) = λ i. leads_by ExportSpecifier 0 a && leads_by ExportNamedDeclaration 1 b && not (third-bare b.fields i)

export-bare : (all : List Name) (up : List Ancestor) (t : Tree) → is_bad_export all (bare_up up) (bare t) ≡ is_bad_export all up t
export-bare all up (node ExportNamedDeclaration l fs) = crowded-bare fs
export-bare all up (node FunctionDeclaration l fs) = λ i. not (no-name-bare fs i) && not (stands-bare ExportDefaultDeclaration 0 up i)
export-bare all up (node ClassDeclaration l fs) = λ i. not (no-name-bare fs i) && not (stands-bare ExportDefaultDeclaration 0 up i)
export-bare all up (node StringLiteral l fs) = local-bare up
export-bare all up (node Identifier l fs) = λ i. local-bare up i && not (is_declared all Scope 0 (first_text l.texts))
export-bare all up (node _ l fs) = refl

plain-key-bare : (up : List Ancestor) → is_plain_key (bare_up up) ≡ is_plain_key up
plain-key-bare [] = refl
plain-key-bare (a ∷ up) = refl

class-bare : (all : List Name) (up : List Ancestor) (t : Tree) → is_bad_class all (bare_up up) (bare t) ≡ is_bad_class all up t
class-bare all up (node MethodDefinition l fs) = λ i. if bytes_eq (first_text l.texts) (codes "constructor") then flag_at 0 l.flags || flag_at 1 l.flags else is_accessor_word (first_text l.texts) && not (flag_at 0 l.flags || flag_at 1 l.flags) && key-bare fs i
class-bare all up (node PrivateIdentifier l fs) = λ i. not (class-key-bare up i) && (plain-key-bare up i || not (list_any (λ n. is_declared all PrivateNames n (first_text l.texts)) (classes-bare up i)))
class-bare all up (node _ l fs) = refl

-- BROKEN RULES

abbrev pub NoneBroken : List Rule → List Name → List Name → List Visit → Type 0
NoneBroken rules all es [] = Unit {0}
NoneBroken rules all es (v ∷ vs) = (filter (is_broken all es v.ancestors v.tree) rules ≡ []) × NoneBroken rules all (declared v.ancestors v.tree ++ es) vs

none-first : {X : Type 0} (xs ys : List X) → xs ++ ys ≡ [] → xs ≡ []
none-first [] ys e = refl
none-first (x ∷ xs) ys e = absurd (cc e)

none-second : {X : Type 0} (xs ys : List X) → xs ++ ys ≡ [] → ys ≡ []
none-second [] ys e = e
none-second (x ∷ xs) ys e = absurd (cc e)

abbrev broken : Visit → Rule → Break
broken v r = (r, (label_of v.tree).id)

none-mapped : (v : Visit) (rs : List Rule) → map (broken v) rs ≡ [] → rs ≡ []
none-mapped v [] e = refl
none-mapped v (r ∷ rs) e = absurd (cc e)

pub to-none : (rules : List Rule) (all es : List Name) (vs : List Visit) → breaks_after rules all es vs ≡ [] → NoneBroken rules all es vs
to-none rules all es [] e = tt
to-none rules all es (v ∷ vs) e = (none-mapped v (filter (is_broken all es v.ancestors v.tree) rules) (none-first (breaks_at rules all es v) (breaks_after rules all (declared v.ancestors v.tree ++ es) vs) e), to-none rules all (declared v.ancestors v.tree ++ es) vs (none-second (breaks_at rules all es v) (breaks_after rules all (declared v.ancestors v.tree ++ es) vs) e))

pub from-none : (rules : List Rule) (all es : List Name) (vs : List Visit) → NoneBroken rules all es vs → breaks_after rules all es vs ≡ []
from-none rules all es [] h = refl
from-none rules all es (v ∷ vs) h = (λ i. map (broken v) (h.0 i) ++ breaks_after rules all (declared v.ancestors v.tree ++ es) vs) ∙ from-none rules all (declared v.ancestors v.tree ++ es) vs h.1

abbrev IsNameRule : Rule → Type 0
IsNameRule DuplicateName = Unit {0}
IsNameRule BadExport = Unit {0}
IsNameRule BadClass = Unit {0}
IsNameRule _ = ⊥

abbrev AreNameRules : List Rule → Type 0
AreNameRules [] = Unit {0}
AreNameRules (r ∷ rs) = IsNameRule r × AreNameRules rs

broken-bare : (all es : List Name) (v : Visit) (r : Rule) → IsNameRule r → is_broken all es (bare_up v.ancestors) (bare v.tree) r ≡ is_broken all es v.ancestors v.tree r
broken-bare all es v DuplicateName h = λ i. has_clash is_binding_space es (declared-bare v.ancestors v.tree i)
broken-bare all es v BadExport h = λ i. has_clash is_export_space es (declared-bare v.ancestors v.tree i) || export-bare all v.ancestors v.tree i
broken-bare all es v BadClass h = λ i. has_clash is_class_space es (declared-bare v.ancestors v.tree i) || class-bare all v.ancestors v.tree i
broken-bare all es v _ h = absurd h

filter-bare : (all es : List Name) (v : Visit) (rs : List Rule) → AreNameRules rs → filter (is_broken all es (bare_up v.ancestors) (bare v.tree)) rs ≡ filter (is_broken all es v.ancestors v.tree) rs
filter-bare all es v [] h = refl
filter-bare all es v (r ∷ rs) h = λ i. cond (broken-bare all es v r h.0 i) (r ∷ filter-bare all es v rs h.1 i) (filter-bare all es v rs h.1 i)

names-bare : (vs : List Visit) (es : List Name) → declared_by (map bare_visit vs) es ≡ declared_by vs es
names-bare [] es = refl
names-bare (v ∷ vs) es = (λ i. declared_by (map bare_visit vs) (declared-bare v.ancestors v.tree i ++ es)) ∙ names-bare vs (declared v.ancestors v.tree ++ es)

module _ (rules : List Rule) (names : AreNameRules rules) (all : List Name) where
  to-bare : (es : List Name) (vs : List Visit) → NoneBroken rules all es vs → NoneBroken rules all es (map bare_visit vs)
  to-bare es [] h = tt
  to-bare es (v ∷ vs) h = (filter-bare all es v rules names ∙ h.0, subst (λ (ns : List Name). NoneBroken rules all (ns ++ es) (map bare_visit vs)) (sym (declared-bare v.ancestors v.tree)) (to-bare (declared v.ancestors v.tree ++ es) vs h.1))

  from-bare : (es : List Name) (vs : List Visit) → NoneBroken rules all es (map bare_visit vs) → NoneBroken rules all es vs
  from-bare es [] h = tt
  from-bare es (v ∷ vs) h = (sym (filter-bare all es v rules names) ∙ h.0, from-bare (declared v.ancestors v.tree ++ es) vs (subst (λ (ns : List Name). NoneBroken rules all (ns ++ es) (map bare_visit vs)) (declared-bare v.ancestors v.tree) h.1))

module _ (rules : List Rule) (names : AreNameRules rules) where
  abbrev Keeps : Tree → Type 0
  Keeps t = breaks_after rules (all_names t) [] (visits [] 0 t) ≡ []

  all-bare : (t : Tree) → all_names (bare t) ≡ all_names t
  all-bare t = (λ i. declared_by (visits-bare [] 0 t i) []) ∙ names-bare (visits [] 0 t) []

  bare-keeps : (t : Tree) → Keeps t → Keeps (bare t)
  bare-keeps t h = from-none rules (all_names (bare t)) [] (visits [] 0 (bare t)) (subst (λ (vs : List Visit). NoneBroken rules (all_names (bare t)) [] vs) (sym (visits-bare [] 0 t)) (subst (λ (ns : List Name). NoneBroken rules ns [] (map bare_visit (visits [] 0 t))) (sym (all-bare t)) (to-bare rules names (all_names t) [] (visits [] 0 t) (to-none rules (all_names t) [] (visits [] 0 t) h))))

  keeps-bare : (t : Tree) → Keeps (bare t) → Keeps t
  keeps-bare t h = from-none rules (all_names t) [] (visits [] 0 t) (from-bare rules names (all_names t) [] (visits [] 0 t) (subst (λ (ns : List Name). NoneBroken rules ns [] (map bare_visit (visits [] 0 t))) (all-bare t) (subst (λ (vs : List Visit). NoneBroken rules (all_names (bare t)) [] vs) (visits-bare [] 0 t) (to-none rules (all_names (bare t)) [] (visits [] 0 (bare t)) h))))

  pub alike-keeps : (t u : Tree) → bare t ≡ bare u → Keeps t → Keeps u
  alike-keeps t u e h = keeps-bare u (subst (λ (x : Tree). Keeps x) e (bare-keeps t h))

pub law_bare_names_proof : LawBareNames
law_bare_names_proof t u e h = alike-keeps name_rules (tt, (tt, tt)) t u e h

pub law_bare_declared_proof : LawBareDeclared
law_bare_declared_proof t u e h = alike-keeps declared_rules (tt, (tt, (tt, tt))) t u e h

-- OF ALL NINETEEN

more-none : (rules more : List Rule) (all es : List Name) (vs : List Visit) → ((P : Rule → Bool) → filter P more ≡ [] → filter P rules ≡ []) → NoneBroken more all es vs → NoneBroken rules all es vs
more-none rules more all es [] f h = tt
more-none rules more all es (v ∷ vs) f h = (f (is_broken all es v.ancestors v.tree) h.0, more-none rules more all (declared v.ancestors v.tree ++ es) vs f h.1)

abbrev pub NoneOf : (Rule → Bool) → List Rule → Type 0
NoneOf P [] = Unit {0}
NoneOf P (r ∷ rs) = (P r ≡ false) × NoneOf P rs

pub each-none : (P : Rule → Bool) (rs : List Rule) → filter P rs ≡ [] → NoneOf P rs
each-none P [] e = tt
each-none P (r ∷ rs) e = let q = at (P r) e in (q.0, each-none P rs q.1)
  where
    at : (b : Bool) → cond b (r ∷ filter P rs) (filter P rs) ≡ [] → (b ≡ false) × (filter P rs ≡ [])
    at true e = absurd (cc e)
    at false e = (refl, e)

pub none-each : (P : Rule → Bool) (rs : List Rule) → NoneOf P rs → filter P rs ≡ []
none-each P [] h = refl
none-each P (r ∷ rs) h = (λ i. cond (h.0 i) (r ∷ filter P rs) (filter P rs)) ∙ none-each P rs h.1

pub law_declared_among_proof : LawDeclaredAmong
law_declared_among_proof t e = from-none declared_rules (all_names t) [] (visits [] 0 t) (more-none declared_rules all_rules (all_names t) [] (visits [] 0 t) three (to-none all_rules (all_names t) [] (visits [] 0 t) e))
  where
    three : (P : Rule → Bool) → filter P all_rules ≡ [] → filter P declared_rules ≡ []
    three P e = let h = each-none P all_rules e in none-each P declared_rules (h.0, (h.1.1.1.1.1.1.1.1.1.1.1.1.1.0, (h.1.1.1.1.1.1.1.1.1.1.1.1.1.1.0, tt)))

both-none : (rules more all_of : List Rule) (all es : List Name) (vs : List Visit) → ((P : Rule → Bool) → filter P rules ≡ [] → filter P more ≡ [] → filter P all_of ≡ []) → NoneBroken rules all es vs → NoneBroken more all es vs → NoneBroken all_of all es vs
both-none rules more all_of all es [] f h k = tt
both-none rules more all_of all es (v ∷ vs) f h k = (f (is_broken all es v.ancestors v.tree) h.0 k.0, both-none rules more all_of all (declared v.ancestors v.tree ++ es) vs f h.1 k.1)

pub law_together_proof : LawTogether
law_together_proof t a b = from-none all_rules (all_names t) [] (visits [] 0 t) (both-none place_rules declared_rules all_rules (all_names t) [] (visits [] 0 t) nineteen (to-none place_rules (all_names t) [] (visits [] 0 t) a) (to-none declared_rules (all_names t) [] (visits [] 0 t) b))
  where
    nineteen : (P : Rule → Bool) → filter P place_rules ≡ [] → filter P declared_rules ≡ [] → filter P all_rules ≡ []
    nineteen P a b =
        let p = each-none P place_rules a in
        let d = each-none P declared_rules b in
        none-each P all_rules (d.0, (p.0, (p.1.0, (p.1.1.0, (p.1.1.1.0, (p.1.1.1.1.0, (p.1.1.1.1.1.0, (p.1.1.1.1.1.1.0, (p.1.1.1.1.1.1.1.0, (p.1.1.1.1.1.1.1.1.0, (p.1.1.1.1.1.1.1.1.1.0, (p.1.1.1.1.1.1.1.1.1.1.0, (p.1.1.1.1.1.1.1.1.1.1.1.0, (d.1.0, (d.1.1.0, (p.1.1.1.1.1.1.1.1.1.1.1.1.0, (p.1.1.1.1.1.1.1.1.1.1.1.1.1.0, (p.1.1.1.1.1.1.1.1.1.1.1.1.1.1.0, (p.1.1.1.1.1.1.1.1.1.1.1.1.1.1.1.0, tt)))))))))))))))))))
