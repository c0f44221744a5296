-- Where nothing is exported: below a node that is no export, where each node keeps the rule of module items.
use Rattle.std.proofs.Common.{◌≡◌, ◌≤◌, ◌==◌, ◌+◌, ℕ, zero, suc, refl, ap, ◌∙◌, List, [], ◌∷◌, ◌++◌, filter, map, cond, arith}
use Rattle.std.specs.Prelude.{Bool, true, false, not, ◌&&◌, ◌||◌, Some, if◌then◌else◌, bytes_eq, codes}
use Rattle.std.proofs.lemmas.Bool.{and_parts}
use Rattle.es_tree.specs.Ancestors.{Ancestor, ancestor, Visit, is_module_top, leads_by, scopes, stands_in, visits, visits_in_field, visits_in_fields, visits_in_trees}
use Rattle.es_tree.specs.Attributes.{child_entries}
use Rattle.es_tree.specs.CoreStaticRules.{is_lexical}
use Rattle.es_tree.specs.DeclaredNames.{Name, bound_names, catch_names, constructor_names, declaration_names, declared, export_name, exported_names, exports_of, function_names, is_at_top, is_class_key, lexical_names, name, names_in_scope, parameter_names, private_names, slots, var_names}
use Rattle.es_tree.specs.HasForm.{ElementsPlace, elements_of, has_form, same_type}
use Rattle.es_tree.specs.Names.{first_text, flag_at}
use Rattle.es_tree.specs.StaticRules.{is_export_space, is_module_item}
use Rattle.es_tree.specs.Tree.{Tree, node, Label, Fields, done, ◌then◌, Field, missing, one, many, statements, Trees, empty, ◌before◌, field_size, fields_of, kind_of, tree_size}
use Rattle.es_tree.specs.Words.{Text}
use Rattle.es_tree.specs.declared.ast_type.AstType.{AstType}
use Rattle.es_tree.specs.declared.ast_type.AstType.TheVariants.{ArrayExpression, ArrayPattern, ArrayTarget, AssignmentPattern, CatchClause, ClassDeclaration, ExportAllDeclaration, ExportDefaultDeclaration, ExportNamedDeclaration, ExportSpecifier, FunctionDeclaration, Identifier, MethodDefinition, ObjectPattern, PatternProperty, PrivateIdentifier, Program, RestElement, StringLiteral, VariableDeclaration, VariableDeclarator}
use Rattle.es_tree.specs.declared.place.Namespace.{Namespace}
use Rattle.es_tree.specs.declared.place.Namespace.TheVariants.{PrivateNames, Scope}
use Rattle.es_tree.specs.declared.table.Sort.{Sort}
use Rattle.es_semantic.proofs.FormEdges.{Edges, EdgesAll, EdgesBy, EdgesIn, ElementsFit, edges-inside, elements-are, entries_fit, is_last}
use Rattle.es_valid_steps.specs.PlaceRules.{Keeps, KeepsAll, KeepsBy, KeepsIn}
use Rattle.es_valid_names.proofs.Claims.{push}
use Rattle.es_valid_names.proofs.Grown.{left-none, right-none}
use Rattle.es_valid_names.proofs.MoreAround.{or-last, or-self}
use Rattle.es_valid_names.proofs.Mute.{beyond_catch, beyond_class, beyond_declarator, beyond_function, beyond_parameter, beyond_part, is_imported, is_parameter, is_part}
use Rattle.es_valid_names.proofs.Numbers.{AllSlots, accessors-fine}
use Rattle.es_valid_names.proofs.Visited.{push-append}

-- WHAT VISITS EXPORT: one list for each that exports something

abbrev pub is_exported : Name → Bool
is_exported n = is_export_space n.namespace

abbrev pub exported_in : List Visit → List (List Name)
exported_in [] = []
exported_in (v ∷ vs) = push (filter is_exported (declared v.ancestors v.tree)) (exported_in vs)

pub exported-append : (vs us : List Visit) → exported_in (vs ++ us) ≡ exported_in vs ++ exported_in us
exported-append [] us = refl
exported-append (v ∷ vs) us = ap (λ gs. push (filter is_exported (declared v.ancestors v.tree)) gs) (exported-append vs us) ∙ push-append (filter is_exported (declared v.ancestors v.tree)) (exported_in vs) (exported_in us)

pub filter-append : (p : Name → Bool) (xs ys : List Name) → filter p (xs ++ ys) ≡ filter p xs ++ filter p ys
filter-append p [] ys = refl
filter-append p (x ∷ xs) ys = at (p x) (filter-append p xs ys)
  where
    at : (b : Bool) → filter p (xs ++ ys) ≡ filter p xs ++ filter p ys → cond b (x ∷ filter p (xs ++ ys)) (filter p (xs ++ ys)) ≡ cond b (x ∷ filter p xs) (filter p xs) ++ filter p ys
    at true e = ap (λ ns. x ∷ ns) e
    at false e = e

-- NAMES that aren't exported

abbrev pub Local : List Name → Type 0
Local [] = Unit {0}
Local (n ∷ ns) = (is_exported n ≡ false) × Local ns

pub local-filter : (ns : List Name) → Local ns → filter is_exported ns ≡ []
local-filter [] h = refl
local-filter (n ∷ ns) h = (λ i. cond (h.0 i) (n ∷ filter is_exported ns) (filter is_exported ns)) ∙ local-filter ns h.1

local-append : (xs ys : List Name) → Local xs → Local ys → Local (xs ++ ys)
local-append [] ys h k = k
local-append (x ∷ xs) ys h k = (h.0, local-append xs ys h.1 k)

local-if : (b : Bool) (xs ys : List Name) → Local xs → Local ys → Local (if b then xs else ys)
local-if true xs ys h k = h
local-if false xs ys h k = k

local-where : (b : Bool) (xs ys : List Name) → (b ≡ true → Local xs) → Local ys → Local (if b then xs else ys)
local-where true xs ys h k = h refl
local-where false xs ys h k = k

pub local-first : (ns : List ℕ) (x : Text) (b : Bool) → Local (names_in_scope ns x b)
local-first [] x b = tt
local-first (n ∷ ns) x b = (refl, tt)

pub local-vars : (ns : List ℕ) (x : Text) → Local (map (λ n. name Scope n x false) ns)
local-vars [] x = tt
local-vars (n ∷ ns) x = (refl, local-vars ns x)

local-slots : (n : ℕ) (x : Text) (ss : List Namespace) → AllSlots ss → Local (map (λ s. name s n x true) ss)
local-slots n x [] h = tt
local-slots n x (s ∷ ss) h = (h.0, local-slots n x ss h.1)

local-private : (up : List Ancestor) (x : Text) → Local (private_names up x)
local-private [] x = tt
local-private (a ∷ []) x = tt
local-private (a ∷ (c ∷ up)) x = local-if (is_class_key (a ∷ up)) (name PrivateNames c.number x false ∷ map (λ s. name s c.number x true) (slots a)) [] (refl, local-slots c.number x (slots a) (accessors-fine (if same_type a.kind MethodDefinition then first_text a.label.texts else []) (flag_at 0 a.label.flags))) tt

local-constructor : (up : List Ancestor) (x : Text) → Local (constructor_names up x)
local-constructor [] x = tt
local-constructor (c ∷ up) x = local-if (bytes_eq x (codes "constructor")) _ [] (refl, tt) tt

-- where it isn't asked for
local-off : (b : Bool) (xs : List Name) → b ≡ false → Local (if b then xs else [])
local-off true xs e = absurd (cc e)
local-off false xs e = tt

pub local-own : (word : Text) (up : List Ancestor) (x : Text) → Local (if is_lexical word then lexical_names up x else var_names up x)
local-own word up x = local-if (is_lexical word) (lexical_names up x) (var_names up x) (local-first (scopes up) x true) (local-vars (scopes up) x)

-- SILENT PLACES

abbrev pub is_named_place : List Ancestor → Bool
is_named_place up = stands_in ExportSpecifier 1 up || stands_in ExportAllDeclaration 0 up

pub record Silent (up : List Ancestor) : Type 0 where
  pub bound : (x : Text) → Local (bound_names up x)
  pub declaration : (x : Text) → Local (declaration_names up x)
  pub top : stands_in ExportNamedDeclaration 0 up ≡ false
  pub named : is_named_place up ≡ false

-- an ancestor that asks what stands around it, and one that exports what stands here
abbrev pub passes : Ancestor → Bool
passes a = is_part a || (leads_by VariableDeclarator 0 a || (leads_by FunctionDeclaration 0 a || (leads_by ClassDeclaration 0 a || same_type a.kind VariableDeclaration)))

abbrev pub exposes : Ancestor → Bool
exposes a = leads_by ExportNamedDeclaration 0 a || (leads_by ExportSpecifier 1 a || leads_by ExportAllDeclaration 0 a)

pub silent-in : (a : Ancestor) (up : List Ancestor) → (passes a ≡ true → Silent up) → exposes a ≡ false → Silent (a ∷ up)
silent-in a up h e =
    let part = is_part a in
    let declarator = leads_by VariableDeclarator 0 a in
    let function = leads_by FunctionDeclaration 0 a in
    let class = leads_by ClassDeclaration 0 a in
    let variable = same_type a.kind VariableDeclaration in
    record {
      bound = λ x.
          local-where part (bound_names up x) (beyond_part a up x) (λ d. (h (or-self part _ d)).bound x)
          (local-where declarator (declaration_names up x) (beyond_declarator a up x) (λ d. (h (or-last part _ (or-self declarator _ d))).declaration x)
          (local-where function (function_names up x ++ exports_of up x) (beyond_function a up x) (λ d. local-append (function_names up x) (exports_of up x) (local-first (scopes up) x (not (is_at_top up))) (local-off (stands_in ExportNamedDeclaration 0 up) (export_name x) (h (or-last part _ (or-last declarator _ (or-self function _ d)))).top))
          (local-if (is_parameter a) (parameter_names a.number x) (beyond_parameter a up x) (refl, (refl, tt))
          (local-where class (lexical_names up x ++ exports_of up x) (beyond_class a up x) (λ d. local-append (lexical_names up x) (exports_of up x) (local-first (scopes up) x true) (local-off (stands_in ExportNamedDeclaration 0 up) (export_name x) (h (or-last part _ (or-last declarator _ (or-last function _ (or-self class _ d))))).top))
          (local-if (leads_by CatchClause 0 a) (catch_names a x) (beyond_catch a up x) (refl, tt)
          (local-if (is_imported a) (lexical_names up x) [] (local-first (scopes up) x true) tt))))));
      declaration = λ x. local-where variable ((if is_lexical (first_text a.label.texts) then lexical_names up x else var_names up x) ++ exports_of up x) [] (λ d. local-append (if is_lexical (first_text a.label.texts) then lexical_names up x else var_names up x) (exports_of up x) (local-own (first_text a.label.texts) up x) (local-off (stands_in ExportNamedDeclaration 0 up) (export_name x) (h (or-last part _ (or-last declarator _ (or-last function _ (or-last class _ d))))).top)) tt;
      top = left-none (leads_by ExportNamedDeclaration 0 a) _ e;
      named = right-none (leads_by ExportNamedDeclaration 0 a) _ e;
    }

-- KINDS that export nothing by themselves

abbrev pub is_inert : AstType → Bool
is_inert ExportNamedDeclaration = false
is_inert ExportDefaultDeclaration = false
is_inert ExportAllDeclaration = false
is_inert ExportSpecifier = false
is_inert _ = true

silent-declared : (up : List Ancestor) (t : Tree) → Silent up → is_inert (kind_of t) ≡ true → Local (declared up t)
silent-declared up (node Identifier l fs) h e = local-append (bound_names up (first_text l.texts)) (exported_names up (first_text l.texts)) (h.bound (first_text l.texts)) (local-off (is_named_place up) (export_name (first_text l.texts)) h.named)
silent-declared up (node StringLiteral l fs) h e = local-off (is_named_place up) (export_name (first_text l.texts)) h.named
silent-declared up (node PrivateIdentifier l fs) h e = local-private up (first_text l.texts)
silent-declared up (node MethodDefinition l fs) h e = local-constructor up (first_text l.texts)
silent-declared up (node ExportDefaultDeclaration l fs) h e = absurd (cc e)
silent-declared up (node _ l fs) h e = tt

inert-exposes : (k : AstType) (l : Label) (all : Fields) (i n : ℕ) → is_inert k ≡ true → exposes (ancestor k l all i n) ≡ false
inert-exposes ExportNamedDeclaration l all i n e = absurd (cc e)
inert-exposes ExportAllDeclaration l all i n e = absurd (cc e)
inert-exposes ExportSpecifier l all i n e = absurd (cc e)
inert-exposes _ l all i n e = refl

-- WHAT STANDS WHERE, by the table of fields

abbrev pub is_pattern : AstType → Bool
is_pattern Identifier = true
is_pattern ObjectPattern = true
is_pattern PatternProperty = true
is_pattern ArrayPattern = true
is_pattern AssignmentPattern = true
is_pattern RestElement = true
is_pattern _ = false

abbrev pub is_name_kind : AstType → Bool
is_name_kind Identifier = true
is_name_kind StringLiteral = true
is_name_kind _ = false

abbrev pub is_declaration_kind : AstType → Bool
is_declaration_kind VariableDeclaration = true
is_declaration_kind FunctionDeclaration = true
is_declaration_kind ClassDeclaration = true
is_declaration_kind _ = false

abbrev pub expects : AstType → ℕ → AstType → Bool
expects ExportNamedDeclaration zero j = is_declaration_kind j
expects ExportNamedDeclaration (suc zero) j = same_type j ExportSpecifier
expects ExportAllDeclaration zero j = is_name_kind j
expects ExportSpecifier (suc zero) j = is_name_kind j
expects VariableDeclaration zero j = same_type j VariableDeclarator
expects VariableDeclaration (suc i) j = false
expects VariableDeclarator zero j = is_pattern j
expects FunctionDeclaration zero j = same_type j Identifier
expects ClassDeclaration zero j = same_type j Identifier
expects ObjectPattern zero j = is_pattern j
expects PatternProperty (suc zero) j = is_pattern j
expects ArrayPattern i j = is_pattern j
expects AssignmentPattern zero j = is_pattern j
expects RestElement zero j = is_pattern j
expects k i j = true

abbrev pub fits : AstType → ℕ → Bool → AstType → Bool
fits k i last j = not (same_type j Program) && (((same_type k ExportNamedDeclaration && i == 1) || not (same_type j ExportSpecifier)) && expects k i j)

entries-fit : (k : AstType) → entries_fit fits k 0 (child_entries k) ≡ true
entries-fit Program = refl
entries-fit _ = refl

elements-fit : (k : AstType) (p : ElementsPlace) → elements_of (child_entries k) ≡ Some p → ElementsFit fits k p
elements-fit ArrayExpression p e = elements-are fits ArrayExpression _ p e (record { sort = λ i b. refl; last = λ i b. refl })
elements-fit ArrayPattern p e = elements-are fits ArrayPattern _ p e (record { sort = λ i b. refl; last = λ i b. refl })
elements-fit ArrayTarget p e = elements-are fits ArrayTarget _ p e (record { sort = λ i b. refl; last = λ i b. refl })
elements-fit _ p e = absurd (cc e)

pub fits-edges : (s : Sort) (k : AstType) (l : Label) (fs : Fields) → has_form s (node k l fs) ≡ true → EdgesIn fits k 0 fs
fits-edges = edges-inside fits (record { entries = entries-fit; elements = elements-fit })

-- what is expected there stands there
pub expected : (k : AstType) (i : ℕ) (last : Bool) (j : AstType) → fits k i last j ≡ true → expects k i j ≡ true
expected k i last j e = (and_parts _ (expects k i j) (and_parts (not (same_type j Program)) _ e).1).1

-- A FIELD in which nothing is exported
pub record Quiet (up vp : List Ancestor) (k : AstType) (l : Label) (all : Fields) (n j : ℕ) : Type 0 where
  pub silent : Silent (ancestor k l all j n ∷ up)
  pub below : is_module_top (ancestor k l all j 0 ∷ vp) ≡ false
  pub unlisted : (same_type k ExportNamedDeclaration && j == 1) ≡ false

inert-child : (k j : AstType) (i : ℕ) (last top : Bool) → fits k i last j ≡ true → (same_type k ExportNamedDeclaration && i == 1) ≡ false → (is_module_item j && not top) ≡ false → top ≡ false → is_inert j ≡ true
inert-child k ExportNamedDeclaration i last top f e m d = absurd (cc (m, d))
inert-child k ExportDefaultDeclaration i last top f e m d = absurd (cc (m, d))
inert-child k ExportAllDeclaration i last top f e m d = absurd (cc (m, d))
inert-child k ExportSpecifier i last top f e m d = absurd (at (same_type k ExportNamedDeclaration && i == 1) (and_parts _ (expects k i ExportSpecifier) f).0 e)
  where
    at : (b : Bool) → (b || false) ≡ true → b ≡ false → ⊥
    at true g e = cc e
    at false g e = cc g
inert-child k _ i last top f e m d = refl

below-node : (k : AstType) (l : Label) (all : Fields) (j : ℕ) (vp : List Ancestor) → same_type k Program ≡ false → is_module_top (ancestor k l all j 0 ∷ vp) ≡ false
below-node Program l all j vp e = absurd (cc e)
below-node _ l all j vp e = refl

inert-unlisted : (k : AstType) (j : ℕ) → is_inert k ≡ true → (same_type k ExportNamedDeclaration && j == 1) ≡ false
inert-unlisted ExportNamedDeclaration j e = absurd (cc e)
inert-unlisted _ j e = refl

pub quiet-at : (up vp : List Ancestor) (k : AstType) (l : Label) (all : Fields) (n j : ℕ) → exposes (ancestor k l all j n) ≡ false → same_type k Program ≡ false → (same_type k ExportNamedDeclaration && j == 1) ≡ false → (passes (ancestor k l all j n) ≡ true → Silent up) → Quiet up vp k l all n j
quiet-at up vp k l all n j e p u h = record { silent = silent-in (ancestor k l all j n) up h e; below = below-node k l all j vp p; unlisted = u }

-- below a node of a kind that exports nothing
pub quiet-in : (up vp : List Ancestor) (k : AstType) (l : Label) (all : Fields) (n j : ℕ) → is_inert k ≡ true → same_type k Program ≡ false → (passes (ancestor k l all j n) ≡ true → Silent up) → Quiet up vp k l all n j
quiet-in up vp k l all n j e p h = quiet-at up vp k l all n j (inert-exposes k l all j n e) p (inert-unlisted k j e) h

no-program : (j : AstType) (b : Bool) → (not (same_type j Program) && b) ≡ true → same_type j Program ≡ false
no-program j b e = at (same_type j Program) e
  where
    at : (c : Bool) → (not c && b) ≡ true → c ≡ false
    at true e = absurd (cc e)
    at false e = refl

-- what stands in such a field
pub record InertChild (t : Tree) : Type 0 where
  pub inert : is_inert (kind_of t) ≡ true
  pub inside : same_type (kind_of t) Program ≡ false
  pub edges : EdgesIn fits (kind_of t) 0 (fields_of t)

pub quiet-child : (up vp : List Ancestor) (k : AstType) (l : Label) (all : Fields) (n i : ℕ) (last : Bool) (t : Tree) → Quiet up vp k l all n i → Edges fits k i last t → Keeps (ancestor k l all i 0 ∷ vp) t → InertChild t
quiet-child up vp k l all n i last (node j m fs) q g r = record { inert = inert-child k j i last (is_module_top (ancestor k l all i 0 ∷ vp)) g.0 q.unlisted r.0.item q.below; inside = no-program j _ g.0; edges = g.1 }

mutual
  pub silent-tree : (up vp : List Ancestor) (n : ℕ) (t : Tree) → Silent up → is_inert (kind_of t) ≡ true → same_type (kind_of t) Program ≡ false → EdgesIn fits (kind_of t) 0 (fields_of t) → Keeps vp t → exported_in (visits up n t) ≡ []
  silent-tree up vp n (node k l fs) h e p g r = (λ i. push (local-filter (declared up (node k l fs)) (silent-declared up (node k l fs) h e) i) (exported_in (visits_in_fields up k l fs n 0 (suc n) fs))) ∙ silent-fields up vp k l fs n 0 (suc n) fs (λ j a. quiet-in up vp k l fs n j e p (λ d. h)) g r.1

  pub silent-fields : (up vp : List Ancestor) (k : AstType) (l : Label) (all : Fields) (n i s : ℕ) (fs : Fields) → ((j : ℕ) → i ≤ j → Quiet up vp k l all n j) → EdgesIn fits k i fs → KeepsIn vp k l all i fs → exported_in (visits_in_fields up k l all n i s fs) ≡ []
  silent-fields up vp k l all n i s done q g r = refl
  silent-fields up vp k l all n i s (f then fs) q g r =
      exported-append (visits_in_field (ancestor k l all i n ∷ up) s f) (visits_in_fields up k l all n (suc i) (s + field_size f) fs)
      ∙ (λ j. silent-field up vp k l all n i (is_last fs) s f (q i (omega arith)) g.0 r.0 j ++ silent-fields up vp k l all n (suc i) (s + field_size f) fs (λ m a. q m (omega arith)) g.1 r.1 j)

  pub silent-field : (up vp : List Ancestor) (k : AstType) (l : Label) (all : Fields) (n i : ℕ) (last : Bool) (s : ℕ) (f : Field) → Quiet up vp k l all n i → EdgesBy fits k i last f → KeepsBy (ancestor k l all i 0 ∷ vp) f → exported_in (visits_in_field (ancestor k l all i n ∷ up) s f) ≡ []
  silent-field up vp k l all n i last s missing q g r = refl
  silent-field up vp k l all n i last s (one t) q g r = let c = quiet-child up vp k l all n i last t q g r in silent-tree (ancestor k l all i n ∷ up) (ancestor k l all i 0 ∷ vp) s t q.silent c.inert c.inside c.edges r
  silent-field up vp k l all n i last s (many ts) q g r = silent-trees up vp k l all n i s ts q g r
  silent-field up vp k l all n i last s (statements ts) q g r = silent-trees up vp k l all n i s ts q g r

  silent-trees : (up vp : List Ancestor) (k : AstType) (l : Label) (all : Fields) (n i s : ℕ) (ts : Trees) → Quiet up vp k l all n i → EdgesAll fits k i ts → KeepsAll (ancestor k l all i 0 ∷ vp) ts → exported_in (visits_in_trees (ancestor k l all i n ∷ up) s ts) ≡ []
  silent-trees up vp k l all n i s empty q g r = refl
  silent-trees up vp k l all n i s (t before ts) q g r =
      let c = quiet-child up vp k l all n i false t q g.0 r.0 in
      exported-append (visits (ancestor k l all i n ∷ up) s t) (visits_in_trees (ancestor k l all i n ∷ up) (s + tree_size t) ts)
      ∙ (λ j. silent-tree (ancestor k l all i n ∷ up) (ancestor k l all i 0 ∷ vp) s t q.silent c.inert c.inside c.edges r.0 j ++ silent-trees up vp k l all n i (s + tree_size t) ts q g.1 r.1 j)
