-- What declarations declare, by their roles (ECMA-262, 8.2), are the names that the scopes of the machine of statements have.
use Rattle.std.proofs.Common.{◌≡◌, ℕ, zero, suc, refl, sym, ap, ◌∙◌, List, [], ◌∷◌, ◌++◌}
use Rattle.std.proofs.lemmas.List.Folds.{list_any-append}
use Rattle.std.specs.Prelude.{Bool, true, false, not, ◌&&◌, ◌||◌, Option, Some, None, is_some, bytes_eq, codes, if◌then◌else◌}
use Rattle.es_tree.specs.BoundNames.{bound_identifiers, bound_in_fields, bound_in_first, bound_in_second, bound_in_field, bound_in_trees}
use Rattle.es_tree.specs.Names.{first_text, is_name_place, third_stands}
use Rattle.es_tree.specs.Scopes.{Declared, declares, is_named, own_text}
use Rattle.es_tree.specs.Tree.{Tree, node, Label, Fields, done, ◌then◌, Field, missing, one, many, statements, Trees, empty, ◌before◌, kind_of}
use Rattle.es_tree.specs.Walks.{all_nodes}
use Rattle.es_tree.specs.Words.{Text}
use Rattle.es_tree.specs.declared.ast_type.AstType.{AstType}
use Rattle.es_tree.specs.declared.ast_type.AstType.TheVariants.{Program, BlockStatement, StaticBlock, VariableDeclaration, VariableDeclarator, FunctionDeclaration, FunctionExpression, FunctionBody, ArrowFunctionExpression, ClassDeclaration, ClassExpression, MethodDefinition, ForStatement, ForInStatement, ForOfStatement, SwitchStatement, SwitchCase, CatchClause, ImportDeclaration, ImportSpecifier, ImportDefaultSpecifier, ImportNamespaceSpecifier, ExportNamedDeclaration, ExportSpecifier, ExportDefaultDeclaration, Identifier, AssignmentExpression, UpdateExpression, ParenthesizedExpression, ObjectPattern, PatternProperty, ArrayPattern, AssignmentPattern, RestElement, ObjectTarget, TargetProperty, ArrayTarget, TargetWithDefault, TargetRest}
use Rattle.es_semantic.specs.RolesOf.{binding_of, reads, refers, role_at}
use Rattle.es_semantic.specs.declared.place.Binding.TheVariants.{Variable, Let, Constant}
use Rattle.es_semantic.specs.declared.place.Role.{Role}
use Rattle.es_semantic.specs.declared.place.Role.TheVariants.{Nothing, Binds}
use Rattle.es_resolution.specs.Declarations.{Bound, declared, declared_among, declared_by, declared_in, is_asked, own_declared, reaches_out, symbol_of}
use Rattle.es_resolution.specs.Resolved.{bound_by}
use Rattle.es_resolution.proofs.Declares.{bound-both}
use Rattle.es_resolution.proofs.Tests.{or-false, and-false}
use Rattle.es_statement_runs.specs.Names.{binding_word, declarations_names, declarators_names, declared_as, first_bound, is_word, names_where, var_names, var_names_all, var_names_at, var_names_in}
use Rattle.es_statement_runs.specs.Programs.{is_statement_kind}
use Rattle.es_statement_steps.proofs.Below.{Below, BelowField, BelowTrees, both_below, by_parts, fields_passed, map_below, map_field, map_trees, nodes_below, parts_of}
use Rattle.es_statement_steps.proofs.Stands.{ChildStands, Standing, child_parts, child_stands, is_declaration, is_declarator, is_inner, is_pattern, is_plain, is_program, binds_at, shaped, standing, stands, takes, word_of}

-- THE CHILDREN OF A NODE

-- what is known of what stands in a field
pub record Child (k : AstType) (i : ℕ) (t : Tree) : Type 0 where
  pub stands_there : ChildStands k i (kind_of t) (word_of t)
  pub nodes : all_nodes stands t ≡ true

pub children_of : (k : AstType) (l : Label) (fs : Fields) → Standing k l fs → Below (λ i t. Child k i t) fs
children_of k l fs s = map_below (λ i t. (child_stands k i t ≡ true) × (all_nodes stands t ≡ true)) (λ i t. Child k i t) (λ i t d. record { stands_there = child_parts k i t d.0; nodes = d.1 }) fs
    (both_below (λ i t. child_stands k i t ≡ true) (λ i t. all_nodes stands t ≡ true) fs (fields_passed (child_stands k) fs s.children) (nodes_below stands fs s.below))

-- with what holds of each by induction
pub from_children : (k : AstType) (l : Label) (fs : Fields) (P Q : ℕ → Tree → Type 0) → Standing k l fs → Below P fs → ((i : ℕ) (t : Tree) → P i t → Child k i t → Q i t) → Below Q fs
from_children k l fs P Q s below law = map_below (λ i t. P i t × Child k i t) Q (λ i t d. law i t d.0 d.1) fs (both_below P (λ i t. Child k i t) fs below (children_of k l fs s))

-- ROLES

asked_place : (v b : Bool) → is_asked v (if b then reads else Nothing) ≡ false
asked_place v true = refl
asked_place v false = refl

pub asked_export : (v b : Bool) → is_asked v (if b then Nothing else reads) ≡ false
asked_export v true = refl
asked_export v false = refl

-- what no role of references has, and no role in an expression or a pattern where the node hasn't
pub role_inner_by : (q : Role → Bool) → ((read write : Bool) → q (refers read write) ≡ false) → q Nothing ≡ false → (r : Role) (k : AstType) (l : Label) (fs : Fields) (i : ℕ) → is_statement_kind k ≡ true → is_inner k ≡ true → q r ≡ false → q (role_at r k l fs i) ≡ false
role_inner_by q read told r AssignmentExpression l fs zero c e o = read _ true
role_inner_by q read told r UpdateExpression l fs zero c e o = read true true
role_inner_by q read told r ParenthesizedExpression l fs zero c e o = o
role_inner_by q read told r VariableDeclarator l fs zero c e o = o
role_inner_by q read told r ObjectPattern l fs zero c e o = o
role_inner_by q read told r PatternProperty l fs (suc zero) c e o = o
role_inner_by q read told r ArrayPattern l fs i c e o = o
role_inner_by q read told r AssignmentPattern l fs zero c e o = o
role_inner_by q read told r RestElement l fs zero c e o = o
role_inner_by q read told r ObjectTarget l fs zero c e o = o
role_inner_by q read told r TargetProperty l fs (suc zero) c e o = o
role_inner_by q read told r ArrayTarget l fs i c e o = o
role_inner_by q read told r TargetWithDefault l fs zero c e o = o
role_inner_by q read told r TargetRest l fs zero c e o = o
role_inner_by q read told r Program l fs i c e o = absurd (cc e)
role_inner_by q read told r VariableDeclaration l fs i c e o = absurd (cc e)
role_inner_by q read told r CatchClause l fs i c e o = absurd (cc e)
role_inner_by q read told r ImportSpecifier l fs i c e o = absurd (cc e)
role_inner_by q read told r ImportDefaultSpecifier l fs i c e o = absurd (cc e)
role_inner_by q read told r ImportNamespaceSpecifier l fs i c e o = absurd (cc e)
role_inner_by q read told r ExportNamedDeclaration l fs i c e o = absurd (cc e)
role_inner_by q read told r ExportSpecifier l fs zero c e o = o
role_inner_by q read told r ExportDefaultDeclaration l fs i c e o = absurd (cc e)
role_inner_by q read told r ForInStatement l fs i c e o = absurd (cc e)
role_inner_by q read told r ForOfStatement l fs i c e o = absurd (cc e)
role_inner_by q read told r FunctionDeclaration l fs i c e o = absurd (cc e)
role_inner_by q read told r FunctionBody l fs i c e o = absurd (cc e)
role_inner_by q read told r StaticBlock l fs i c e o = absurd (cc e)
role_inner_by q read told r ClassDeclaration l fs i c e o = absurd (cc e)
role_inner_by q read told r FunctionExpression l fs i c e o = absurd (cc c)
role_inner_by q read told r ArrowFunctionExpression l fs i c e o = absurd (cc c)
role_inner_by q read told r ClassExpression l fs i c e o = absurd (cc c)
role_inner_by q read told r MethodDefinition l fs i c e o = absurd (cc c)
role_inner_by q read told r k l fs i c e o = by_place (is_name_place k l i)
  where
    by_place : (b : Bool) → q (if b then reads else Nothing) ≡ false
    by_place true = read true false
    by_place false = told

-- where a node declares nothing, neither does what stands in it
role_inner : (v : Bool) (r : Role) (k : AstType) (l : Label) (fs : Fields) (i : ℕ) → is_statement_kind k ≡ true → is_inner k ≡ true → is_asked v r ≡ false → is_asked v (role_at r k l fs i) ≡ false
role_inner v = role_inner_by (is_asked v) (λ read write. refl) refl

-- what is declared in a pattern stands where names are bound
role_pattern : (v : Bool) (r : Role) (k : AstType) (l : Label) (fs : Fields) (i : ℕ) → (is_pattern k || is_declarator k) ≡ true → is_asked v (role_at r k l fs i) ≡ true → binds_at k i ≡ true
role_pattern v r Identifier l fs i c o = absurd (cc o)
role_pattern v r VariableDeclarator l fs zero c o = refl
role_pattern v r VariableDeclarator l fs (suc i) c o = absurd (cc o)
role_pattern v r ObjectPattern l fs i c o = refl
role_pattern v r PatternProperty l fs zero c o = absurd (let no = asked_place v (is_name_place PatternProperty l zero) in cc (no, o))
role_pattern v r PatternProperty l fs (suc zero) c o = refl
role_pattern v r PatternProperty l fs (suc (suc i)) c o = absurd (cc o)
role_pattern v r ArrayPattern l fs i c o = refl
role_pattern v r AssignmentPattern l fs zero c o = refl
role_pattern v r AssignmentPattern l fs (suc i) c o = absurd (cc o)
role_pattern v r RestElement l fs i c o = refl
role_pattern v r k l fs i c o = absurd (cc c)

-- no `var` but of its own stands in a declaration
role_var : (r : Role) (k : AstType) (l : Label) (fs : Fields) (i : ℕ) → is_statement_kind k ≡ true → is_declaration k ≡ false → is_asked true r ≡ false → is_asked true (role_at r k l fs i) ≡ false
role_var r VariableDeclaration l fs i c e o = absurd (cc e)
role_var r Program l fs (suc zero) c e o = refl
role_var r ExportNamedDeclaration l fs zero c e o = o
role_var r ExportDefaultDeclaration l fs zero c e o = o
role_var r VariableDeclarator l fs zero c e o = o
role_var r CatchClause l fs zero c e o = refl
role_var r ImportSpecifier l fs (suc zero) c e o = refl
role_var r ImportDefaultSpecifier l fs zero c e o = refl
role_var r ImportNamespaceSpecifier l fs zero c e o = refl
role_var r ExportNamedDeclaration l fs (suc zero) c e o = asked_export true (third_stands fs)
role_var r ExportSpecifier l fs zero c e o = o
role_var r ForInStatement l fs zero c e o = refl
role_var r ForOfStatement l fs zero c e o = refl
role_var r AssignmentExpression l fs zero c e o = refl
role_var r UpdateExpression l fs zero c e o = refl
role_var r ParenthesizedExpression l fs zero c e o = o
role_var r ObjectPattern l fs zero c e o = o
role_var r PatternProperty l fs (suc zero) c e o = o
role_var r ArrayPattern l fs i c e o = o
role_var r AssignmentPattern l fs zero c e o = o
role_var r RestElement l fs zero c e o = o
role_var r ObjectTarget l fs zero c e o = o
role_var r TargetProperty l fs (suc zero) c e o = o
role_var r ArrayTarget l fs i c e o = o
role_var r TargetWithDefault l fs zero c e o = o
role_var r TargetRest l fs zero c e o = o
role_var r FunctionDeclaration l fs i c e o = absurd (cc c)
role_var r FunctionExpression l fs i c e o = absurd (cc c)
role_var r FunctionBody l fs i c e o = absurd (cc c)
role_var r StaticBlock l fs i c e o = absurd (cc c)
role_var r ArrowFunctionExpression l fs i c e o = absurd (cc c)
role_var r ClassDeclaration l fs i c e o = absurd (cc c)
role_var r ClassExpression l fs i c e o = absurd (cc c)
role_var r MethodDefinition l fs i c e o = absurd (cc c)
role_var r k l fs i c e o = asked_place true (is_name_place k l i)

-- nor does what stands in a node that declares nothing in the scope around it
pub role_lexical : (r : Role) (k : AstType) (l : Label) (fs : Fields) (w : Text) (i : ℕ) → is_statement_kind k ≡ true → is_declaration k ≡ false → is_plain k w ≡ true → reaches_out false k i ≡ true → is_asked false r ≡ false → is_asked false (role_at r k l fs i) ≡ false
role_lexical r VariableDeclaration l fs w i c e p g o = absurd (cc e)
role_lexical r Program l fs w i c e p g o = absurd (cc p)
role_lexical r ExportNamedDeclaration l fs w i c e p g o = absurd (cc p)
role_lexical r ExportDefaultDeclaration l fs w zero c e p g o = o
role_lexical r VariableDeclarator l fs w zero c e p g o = o
role_lexical r CatchClause l fs w zero c e p g o = absurd (cc g)
role_lexical r ImportSpecifier l fs w i c e p g o = absurd (cc p)
role_lexical r ImportDefaultSpecifier l fs w i c e p g o = absurd (cc p)
role_lexical r ImportNamespaceSpecifier l fs w i c e p g o = absurd (cc p)
role_lexical r ExportSpecifier l fs w zero c e p g o = o
role_lexical r ForInStatement l fs w zero c e p g o = refl
role_lexical r ForOfStatement l fs w zero c e p g o = refl
role_lexical r AssignmentExpression l fs w zero c e p g o = refl
role_lexical r UpdateExpression l fs w zero c e p g o = refl
role_lexical r ParenthesizedExpression l fs w zero c e p g o = o
role_lexical r ObjectPattern l fs w zero c e p g o = o
role_lexical r PatternProperty l fs w (suc zero) c e p g o = o
role_lexical r ArrayPattern l fs w i c e p g o = o
role_lexical r AssignmentPattern l fs w zero c e p g o = o
role_lexical r RestElement l fs w zero c e p g o = o
role_lexical r ObjectTarget l fs w zero c e p g o = o
role_lexical r TargetProperty l fs w (suc zero) c e p g o = o
role_lexical r ArrayTarget l fs w i c e p g o = o
role_lexical r TargetWithDefault l fs w zero c e p g o = o
role_lexical r TargetRest l fs w zero c e p g o = o
role_lexical r FunctionDeclaration l fs w i c e p g o = absurd (cc c)
role_lexical r FunctionExpression l fs w i c e p g o = absurd (cc c)
role_lexical r FunctionBody l fs w i c e p g o = absurd (cc c)
role_lexical r StaticBlock l fs w i c e p g o = absurd (cc c)
role_lexical r ArrowFunctionExpression l fs w i c e p g o = absurd (cc c)
role_lexical r ClassDeclaration l fs w i c e p g o = absurd (cc c)
role_lexical r ClassExpression l fs w i c e p g o = absurd (cc c)
role_lexical r MethodDefinition l fs w i c e p g o = absurd (cc c)
role_lexical r k l fs w i c e p g o = asked_place false (is_name_place k l i)

-- what isn't plain stands in the scope of a node of its own
pub taken : (k : AstType) (w : Text) (i : ℕ) (j : AstType) → is_plain k w ≡ true → reaches_out false k i ≡ true → takes k i j ≡ false
taken Program w i j p g = absurd (cc p)
taken BlockStatement w i j p g = absurd (cc g)
taken ForStatement w i j p g = absurd (cc g)
taken ForInStatement w i j p g = absurd (cc g)
taken ForOfStatement w i j p g = absurd (cc g)
taken SwitchStatement w zero j p g = refl
taken SwitchStatement w (suc i) j p g = absurd (cc g)
taken SwitchCase w i j p g = absurd (cc p)
taken ImportDeclaration w i j p g = absurd (cc p)
taken ExportNamedDeclaration w i j p g = absurd (cc p)
taken _ w i j p g = refl

-- fields that reach out
reaches : (v : Bool) (k : AstType) (i : ℕ) → is_statement_kind k ≡ true → (is_inner k || is_declaration k) ≡ true → reaches_out v k i ≡ true
reaches true Program i c e = absurd (cc e)
reaches true FunctionBody i c e = absurd (cc c)
reaches true StaticBlock i c e = absurd (cc c)
reaches true _ i c e = refl
reaches false Program i c e = absurd (cc e)
reaches false BlockStatement i c e = absurd (cc e)
reaches false StaticBlock i c e = absurd (cc c)
reaches false FunctionDeclaration i c e = absurd (cc c)
reaches false FunctionExpression i c e = absurd (cc c)
reaches false FunctionBody i c e = absurd (cc c)
reaches false ArrowFunctionExpression i c e = absurd (cc c)
reaches false ClassDeclaration i c e = absurd (cc c)
reaches false ClassExpression i c e = absurd (cc c)
reaches false ForStatement i c e = absurd (cc e)
reaches false ForInStatement i c e = absurd (cc e)
reaches false ForOfStatement i c e = absurd (cc e)
reaches false SwitchStatement i c e = absurd (cc e)
reaches false CatchClause i c e = absurd (cc e)
reaches false _ i c e = refl

reaches_var : (k : AstType) (i : ℕ) → is_statement_kind k ≡ true → is_program k ≡ false → reaches_out true k i ≡ true
reaches_var Program i c e = absurd (cc e)
reaches_var FunctionBody i c e = absurd (cc c)
reaches_var StaticBlock i c e = absurd (cc c)
reaches_var _ i c e = refl

pub own_none : (v : Bool) (r : Role) (k : AstType) (l : Label) → is_asked v r ≡ false → own_declared v r k l ≡ []
own_none v r Identifier l o = rw o refl
own_none v r k l o = refl

-- WHETHER SOMETHING HOLDS OF A TREE in a list, in a field, in fields that count

abbrev pub any_trees : (Tree → Bool) → Trees → Bool
any_trees g empty = false
any_trees g (t before ts) = g t || any_trees g ts

abbrev pub any_field : (Tree → Bool) → Field → Bool
any_field g missing = false
any_field g (one t) = g t
any_field g (many ts) = any_trees g ts
any_field g (statements ts) = any_trees g ts

abbrev pub any_below : (ℕ → Bool) → (ℕ → Tree → Bool) → Fields → Bool
any_below counts g done = false
any_below counts g (f then fs) = (counts zero && any_field (g zero) f) || any_below (λ i. counts (suc i)) (λ i. g (suc i)) fs

abbrev nowhere : ℕ → Tree → Bool
nowhere i t = false

none_trees : (ts : Trees) → any_trees (λ t. false) ts ≡ false
none_trees empty = refl
none_trees (t before ts) = none_trees ts

pub none_field : (f : Field) → any_field (λ t. false) f ≡ false
none_field missing = refl
none_field (one t) = refl
none_field (many ts) = none_trees ts
none_field (statements ts) = none_trees ts

none_below : (counts : ℕ → Bool) (fs : Fields) → any_below counts nowhere fs ≡ false
none_below counts done = refl
none_below counts (f then fs) = rw (none_field f, and-false (counts zero)) (none_below (λ i. counts (suc i)) fs)

all_count : (counts : ℕ → Bool) (g : ℕ → Tree → Bool) (fs : Fields) → ((i : ℕ) → counts i ≡ true) → any_below counts g fs ≡ any_below (λ i. true) g fs
all_count counts g done e = refl
all_count counts g (f then fs) e = λ j. (e zero j && any_field (g zero) f) || all_count (λ i. counts (suc i)) (λ i. g (suc i)) fs (λ i. e (suc i)) j

-- whether one of these identifiers is called so
abbrev pub any_called : Text → List Tree → Bool
any_called x [] = false
any_called x (t ∷ ts) = bytes_eq (own_text t) x || any_called x ts

or_more : (a b c : Bool) → (a || (b || c)) ≡ ((a || b) || c)
or_more true b c = refl
or_more false b c = refl

both_or : (a b c : Bool) → (a && (b || c)) ≡ ((a && b) || (a && c))
both_or true b c = refl
both_or false b c = refl

module _ (x : Text) where
  called_append : (ts us : List Tree) → any_called x (ts ++ us) ≡ (any_called x ts || any_called x us)
  called_append [] us = refl
  called_append (t ∷ ts) us = ap (λ b. bytes_eq (own_text t) x || b) (called_append ts us) ∙ or_more (bytes_eq (own_text t) x) (any_called x ts) (any_called x us)

  pub declares_append : (ds es : List Declared) → declares (ds ++ es) x ≡ (declares ds x || declares es x)
  declares_append ds es = list_any-append (is_named x) ds es

  -- WHAT FIELDS DECLARE is what each tree in them declares

  module _ (v : Bool) where
    pub bound_trees : (r : Role) (g : Tree → Bool) (ts : Trees) → BelowTrees (λ t. bound_by (declared v r t) x ≡ g t) ts → bound_by (declared_among v r ts) x ≡ any_trees g ts
    bound_trees r g empty h = refl
    bound_trees r g (t before ts) h = bound-both (declared v r t) (declared_among v r ts) x (g t) (any_trees g ts) h.0 (bound_trees r g ts h.1)

    pub bound_field : (r : Role) (g : Tree → Bool) (f : Field) → BelowField (λ t. bound_by (declared v r t) x ≡ g t) f → bound_by (declared_by v r f) x ≡ any_field g f
    bound_field r g missing h = refl
    bound_field r g (one t) h = h
    bound_field r g (many ts) h = bound_trees r g ts h
    bound_field r g (statements ts) h = bound_trees r g ts h

    if_bound : (c : Bool) (bs : List Bound) (a : Bool) → (c ≡ true → bound_by bs x ≡ a) → bound_by (if c then bs else []) x ≡ (c && a)
    if_bound true bs a e = e refl
    if_bound false bs a e = refl

    bound_fields : (counts : ℕ → Bool) (roles : ℕ → Role) (g : ℕ → Tree → Bool) (fs : Fields) → Below (λ i t. counts i ≡ true → bound_by (declared v (roles i) t) x ≡ g i t) fs → bound_by (declared_in v counts roles fs) x ≡ any_below counts g fs
    bound_fields counts roles g done h = refl
    bound_fields counts roles g (f then fs) h =
        bound-both (if counts zero then declared_by v (roles zero) f else []) (declared_in v (λ i. counts (suc i)) (λ i. roles (suc i)) fs) x (counts zero && any_field (g zero) f) (any_below (λ i. counts (suc i)) (λ i. g (suc i)) fs)
        (if_bound (counts zero) (declared_by v (roles zero) f) (any_field (g zero) f) (λ c. bound_field (roles zero) (g zero) f (map_field (λ t. counts zero ≡ true → bound_by (declared v (roles zero) t) x ≡ g zero t) (λ t. bound_by (declared v (roles zero) t) x ≡ g zero t) (λ t d. d c) f h.0)))
        (bound_fields (λ i. counts (suc i)) (λ i. roles (suc i)) (λ i. g (suc i)) fs h.1)

    pub none_bound : (counts : ℕ → Bool) (roles : ℕ → Role) (fs : Fields) → Below (λ i t. counts i ≡ true → bound_by (declared v (roles i) t) x ≡ false) fs → bound_by (declared_in v counts roles fs) x ≡ false
    none_bound counts roles fs h = bound_fields counts roles nowhere fs h ∙ none_below counts fs

    -- a node that declares nothing itself
    pub node_bound : (r : Role) (k : AstType) (l : Label) (fs : Fields) (a : Bool) → own_declared v r k l ≡ [] → bound_by (declared_in v (reaches_out v k) (role_at r k l fs) fs) x ≡ a → bound_by (declared v r (node k l fs)) x ≡ a
    node_bound r k l fs a e h = bound-both (own_declared v r k l) (declared_in v (reaches_out v k) (role_at r k l fs) fs) x false a (ap (λ bs. bound_by bs x) e) h

  -- EXPRESSIONS AND PATTERNS that declare nothing

  abbrev InnerNone : Tree → Type 0
  InnerNone t = (v : Bool) (r : Role) → is_asked v r ≡ false → is_inner (kind_of t) ≡ true → all_nodes stands t ≡ true → bound_by (declared v r t) x ≡ false

  inner_none_at : (k : AstType) (l : Label) (fs : Fields) → Below (λ i. InnerNone) fs → InnerNone (node k l fs)
  inner_none_at k l fs below v r o e h =
      let s = standing k l fs h in
      node_bound v r k l fs false (own_none v r k l o)
      (none_bound v (reaches_out v k) (role_at r k l fs) fs
      (from_children k l fs (λ i. InnerNone) (λ i t. reaches_out v k i ≡ true → bound_by (declared v (role_at r k l fs i) t) x ≡ false) s below
      (λ i t p c g. p v (role_at r k l fs i) (role_inner v r k l fs i s.class e o) (c.stands_there.inner e) c.nodes)))

  pub inner_none : (v : Bool) (r : Role) (t : Tree) → is_asked v r ≡ false → is_inner (kind_of t) ≡ true → all_nodes stands t ≡ true → bound_by (declared v r t) x ≡ false
  inner_none v r t = by_parts InnerNone inner_none_at t v r

  -- PATTERNS (8.2.1)

  -- what a tree of this role declares, where it is a pattern if that is asked for
  abbrev Bounds : Bool → Role → Tree → Bool
  Bounds v r t = is_asked v r && any_called x (bound_identifiers t)

  abbrev PatternNames : Tree → Type 0
  PatternNames t = (v : Bool) (r : Role) → is_inner (kind_of t) ≡ true → (is_asked v r ≡ true → is_pattern (kind_of t) ≡ true) → all_nodes stands t ≡ true → bound_by (declared v r t) x ≡ Bounds v r t

  -- the trees of a field that is asked for or not
  asked_trees : (b : Bool) (ts : Trees) → any_trees (λ t. b && any_called x (bound_identifiers t)) ts ≡ (b && any_called x (bound_in_trees ts))
  asked_trees b empty = sym (and-false b)
  asked_trees b (t before ts) =
      ap (λ c. (b && any_called x (bound_identifiers t)) || c) (asked_trees b ts) ∙ sym (both_or b (any_called x (bound_identifiers t)) (any_called x (bound_in_trees ts)))
      ∙ ap (λ c. b && c) (sym (called_append (bound_identifiers t) (bound_in_trees ts)))

  asked_field : (b : Bool) (f : Field) → any_field (λ t. b && any_called x (bound_identifiers t)) f ≡ (b && any_called x (bound_in_field f))
  asked_field b missing = sym (and-false b)
  asked_field b (one t) = refl
  asked_field b (many ts) = asked_trees b ts
  asked_field b (statements ts) = asked_trees b ts

  off_field : (b : Bool) (f : Field) → b ≡ false → any_field (λ t. b && any_called x (bound_identifiers t)) f ≡ false
  off_field b f e = asked_field b f ∙ ap (λ c. c && any_called x (bound_in_field f)) e

  none_asked : (v : Bool) (roles : ℕ → Role) (fs : Fields) → ((i : ℕ) → is_asked v (roles i) ≡ false) → any_below (λ i. true) (λ i. Bounds v (roles i)) fs ≡ false
  none_asked v roles done e = refl
  none_asked v roles (f then fs) e = ap (λ b. b || any_below (λ i. true) (λ i. Bounds v (roles (suc i))) fs) (off_field (is_asked v (roles zero)) f (e zero)) ∙ none_asked v (λ i. roles (suc i)) fs (λ i. e (suc i))

  first_asked : (v : Bool) (roles : ℕ → Role) (fs : Fields) → ((i : ℕ) → is_asked v (roles (suc i)) ≡ false) → any_below (λ i. true) (λ i. Bounds v (roles i)) fs ≡ (is_asked v (roles zero) && any_called x (bound_in_first fs))
  first_asked v roles done e = sym (and-false (is_asked v (roles zero)))
  first_asked v roles (f then fs) e = (λ j. asked_field (is_asked v (roles zero)) f j || none_asked v (λ i. roles (suc i)) fs e j) ∙ or-false (is_asked v (roles zero) && any_called x (bound_in_field f))

  second_asked : (v : Bool) (roles : ℕ → Role) (fs : Fields) → is_asked v (roles zero) ≡ false → ((i : ℕ) → is_asked v (roles (suc (suc i))) ≡ false) → any_below (λ i. true) (λ i. Bounds v (roles i)) fs ≡ (is_asked v (roles 1) && any_called x (bound_in_second fs))
  second_asked v roles done z e = sym (and-false (is_asked v (roles 1)))
  second_asked v roles (f then fs) z e = ap (λ b. b || any_below (λ i. true) (λ i. Bounds v (roles (suc i))) fs) (off_field (is_asked v (roles zero)) f z) ∙ first_asked v (λ i. roles (suc i)) fs e

  every_asked : (v : Bool) (r : Role) (fs : Fields) → any_below (λ i. true) (λ i. Bounds v r) fs ≡ (is_asked v r && any_called x (bound_in_fields fs))
  every_asked v r done = sym (and-false (is_asked v r))
  every_asked v r (f then fs) =
      (λ j. asked_field (is_asked v r) f j || every_asked v r fs j) ∙ sym (both_or (is_asked v r) (any_called x (bound_in_field f)) (any_called x (bound_in_fields fs)))
      ∙ ap (λ c. is_asked v r && c) (sym (called_append (bound_in_field f) (bound_in_fields fs)))

  -- what the fields of a pattern or a declarator declare
  pattern_fields : (v : Bool) (r : Role) (k : AstType) (l : Label) (fs : Fields) → Standing k l fs → Below (λ i. PatternNames) fs → is_inner k ≡ true → (is_pattern k || is_declarator k) ≡ true →
      bound_by (declared_in v (reaches_out v k) (role_at r k l fs) fs) x ≡ any_below (λ i. true) (λ i. Bounds v (role_at r k l fs i)) fs
  pattern_fields v r k l fs s below e q =
      bound_fields v (reaches_out v k) (role_at r k l fs) (λ i. Bounds v (role_at r k l fs i)) fs
      (from_children k l fs (λ i. PatternNames) (λ i t. reaches_out v k i ≡ true → bound_by (declared v (role_at r k l fs i) t) x ≡ Bounds v (role_at r k l fs i) t) s below
      (λ i t p c g. p v (role_at r k l fs i) (c.stands_there.inner e) (λ o. c.stands_there.pattern (role_pattern v r k l fs i q o)) c.nodes))
      ∙ all_count (reaches_out v k) (λ i. Bounds v (role_at r k l fs i)) fs (λ i. reaches v k i s.class (first_of (is_inner k) (is_declaration k) e))
    where
      first_of : (a b : Bool) → a ≡ true → (a || b) ≡ true
      first_of true b h = refl
      first_of false b h = absurd (cc h)

  some_if : (d : Bool) (m : Option ℕ) → is_some (if d then Some m else None) ≡ (d || false)
  some_if true m = refl
  some_if false m = refl

  own_asked : (c : Bool) (b : Bound) → bound_by (if c then b ∷ [] else []) x ≡ (c && (bytes_eq b.name x || false))
  own_asked true b = some_if (bytes_eq b.name x) b.symbol
  own_asked false b = refl

  own_name : (v : Bool) (r : Role) (l : Label) (fs : Fields) → bound_by (own_declared v r Identifier l) x ≡ (is_asked v r && any_called x (node Identifier l fs ∷ []))
  own_name v r l fs = own_asked (is_asked v r) (record { name = first_text l.texts; symbol = symbol_of l })

  -- what is no pattern declares nothing, where only patterns are asked for
  other_names : (v : Bool) (r : Role) (k : AstType) (l : Label) (fs : Fields) → is_pattern k ≡ false → is_inner k ≡ true → (is_asked v r ≡ true → is_pattern k ≡ true) → all_nodes stands (node k l fs) ≡ true → bound_by (declared v r (node k l fs)) x ≡ (is_asked v r && false)
  other_names v r k l fs n e g h = at (is_asked v r) refl
    where
      at : (b : Bool) → is_asked v r ≡ b → bound_by (declared v r (node k l fs)) x ≡ (is_asked v r && false)
      at true o = absurd (let yes : is_pattern k ≡ true = g o in cc (n, yes))
      at false o = inner_none v r (node k l fs) o e h ∙ sym (ap (λ c. c && false) o)

  pattern_names_at : (k : AstType) (l : Label) (fs : Fields) → Below (λ i. PatternNames) fs → PatternNames (node k l fs)
  pattern_names_at Identifier l fs below v r e g h =
      bound-both (own_declared v r Identifier l) (declared_in v (reaches_out v Identifier) (role_at r Identifier l fs) fs) x (is_asked v r && any_called x (node Identifier l fs ∷ [])) false
      (own_name v r l fs) (pattern_fields v r Identifier l fs (standing Identifier l fs h) below refl refl ∙ none_asked v (role_at r Identifier l fs) fs (λ i. refl)) ∙ or-false (is_asked v r && any_called x (node Identifier l fs ∷ []))
  pattern_names_at ObjectPattern l fs below v r e g h = node_bound v r ObjectPattern l fs (is_asked v r && any_called x (bound_in_first fs)) refl (pattern_fields v r ObjectPattern l fs (standing ObjectPattern l fs h) below refl refl ∙ first_asked v (role_at r ObjectPattern l fs) fs (λ i. refl))
  pattern_names_at PatternProperty l fs below v r e g h =
      node_bound v r PatternProperty l fs (is_asked v r && any_called x (bound_in_second fs)) refl
      (pattern_fields v r PatternProperty l fs (standing PatternProperty l fs h) below refl refl ∙ second_asked v (role_at r PatternProperty l fs) fs (asked_place v (is_name_place PatternProperty l zero)) (λ i. refl))
  pattern_names_at ArrayPattern l fs below v r e g h = node_bound v r ArrayPattern l fs (is_asked v r && any_called x (bound_in_fields fs)) refl (pattern_fields v r ArrayPattern l fs (standing ArrayPattern l fs h) below refl refl ∙ every_asked v r fs)
  pattern_names_at AssignmentPattern l fs below v r e g h = node_bound v r AssignmentPattern l fs (is_asked v r && any_called x (bound_in_first fs)) refl (pattern_fields v r AssignmentPattern l fs (standing AssignmentPattern l fs h) below refl refl ∙ first_asked v (role_at r AssignmentPattern l fs) fs (λ i. refl))
  pattern_names_at RestElement l fs below v r e g h = node_bound v r RestElement l fs (is_asked v r && any_called x (bound_in_first fs)) refl (pattern_fields v r RestElement l fs (standing RestElement l fs h) below refl refl ∙ first_asked v (role_at r RestElement l fs) fs (λ i. refl))
  pattern_names_at k l fs below v r e g h = other_names v r k l fs refl e g h

  pub pattern_names : (v : Bool) (r : Role) (t : Tree) → is_inner (kind_of t) ≡ true → (is_asked v r ≡ true → is_pattern (kind_of t) ≡ true) → all_nodes stands t ≡ true → bound_by (declared v r t) x ≡ Bounds v r t
  pattern_names v r t = by_parts PatternNames pattern_names_at t v r

  -- DECLARATIONS (14.3)

  first_bound_same : (fs : Fields) → shaped VariableDeclarator fs ≡ true → any_called x (bound_in_first fs) ≡ any_called x (first_bound fs)
  first_bound_same (one t then fs) h = refl
  first_bound_same _ h = absurd (cc h)

  declarator_names : (v : Bool) (r : Role) (l : Label) (fs : Fields) → all_nodes stands (node VariableDeclarator l fs) ≡ true → bound_by (declared v r (node VariableDeclarator l fs)) x ≡ (is_asked v r && any_called x (first_bound fs))
  declarator_names v r l fs h =
      let s = standing VariableDeclarator l fs h in
      node_bound v r VariableDeclarator l fs (is_asked v r && any_called x (first_bound fs)) refl
      (pattern_fields v r VariableDeclarator l fs s (parts_of PatternNames pattern_names_at fs) refl refl ∙ first_asked v (role_at r VariableDeclarator l fs) fs (λ i. refl) ∙ ap (λ b. is_asked v r && b) (first_bound_same fs s.shape))

  pub declared_called : (word : Text) (ts : List Tree) → declares (declared_as word ts) x ≡ any_called x ts
  declared_called word [] = refl
  declared_called word (t ∷ ts) = ap (λ b. bytes_eq (own_text t) x || b) (declared_called word ts)

  -- the declarators of a declaration
  abbrev Declarators : Trees → Type 0
  Declarators ds = BelowTrees (λ d. (is_declarator (kind_of d) ≡ true) × (all_nodes stands d ≡ true)) ds

  declarators_named : (v : Bool) (r : Role) (word : Text) (ds : Trees) → Declarators ds → bound_by (declared_among v r ds) x ≡ (is_asked v r && declares (declarators_names word ds) x)
  declarators_named v r word empty h = sym (and-false (is_asked v r))
  declarators_named v r word (node VariableDeclarator l fs before ds) h =
      bound-both (declared v r (node VariableDeclarator l fs)) (declared_among v r ds) x (is_asked v r && any_called x (first_bound fs)) (is_asked v r && declares (declarators_names word ds) x)
      (declarator_names v r l fs h.0.1) (declarators_named v r word ds h.1)
      ∙ sym (both_or (is_asked v r) (any_called x (first_bound fs)) (declares (declarators_names word ds) x))
      ∙ ap (λ b. is_asked v r && b) (ap (λ b. b || declares (declarators_names word ds) x) (sym (declared_called word (first_bound fs))) ∙ sym (declares_append (declared_as word (first_bound fs)) (declarators_names word ds)))
  declarators_named v r word (node k l fs before ds) h = absurd (cc h.0.0)

  -- the role of what a declaration with this word binds
  abbrev pub bound_role : Text → Role
  bound_role word = Binds (binding_of word)

  pub declaration_named : (v : Bool) (r : Role) (l : Label) (fs : Fields) (word : Text) → all_nodes stands (node VariableDeclaration l fs) ≡ true →
      bound_by (declared v r (node VariableDeclaration l fs)) x ≡ (is_asked v (bound_role (first_text l.texts)) && declares (declarations_names word fs) x)
  declaration_named v r l (many ds then gs) word h =
      let s = standing VariableDeclaration l (many ds then gs) h in
      let role = bound_role (first_text l.texts) in
      let c = children_of VariableDeclaration l (many ds then gs) s in
      let declarators : Declarators ds = map_trees (λ d. Child VariableDeclaration zero d) (λ d. (is_declarator (kind_of d) ≡ true) × (all_nodes stands d ≡ true)) (λ d e. (e.stands_there.part, e.nodes)) ds c.0 in
      let counts : (i : ℕ) → reaches_out v VariableDeclaration i ≡ true = λ i. reaches v VariableDeclaration i refl refl in
      node_bound v r VariableDeclaration l (many ds then gs) (is_asked v role && declares (declarators_names word ds) x) refl
      (bound-both (if reaches_out v VariableDeclaration zero then declared_among v role ds else []) (declared_in v (λ i. reaches_out v VariableDeclaration (suc i)) (λ i. role_at r VariableDeclaration l (many ds then gs) (suc i)) gs) x
      (is_asked v role && declares (declarators_names word ds) x) false
      (if_bound v (reaches_out v VariableDeclaration zero) (declared_among v role ds) (is_asked v role && declares (declarators_names word ds) x) (λ g. declarators_named v role word ds declarators) ∙ ap (λ b. b && (is_asked v role && declares (declarators_names word ds) x)) (counts zero))
      (none_bound v (λ i. reaches_out v VariableDeclaration (suc i)) (λ i. reads) gs (map_below (λ i t. Child VariableDeclaration (suc i) t) (λ i t. reaches_out v VariableDeclaration (suc i) ≡ true → bound_by (declared v reads t) x ≡ false) (λ i t e g. absurd (let no = e.stands_there.part in cc no)) gs c.1))
      ∙ or-false (is_asked v role && declares (declarators_names word ds) x))
  declaration_named v r l fs word h = absurd (let s = standing VariableDeclaration l fs h in cc s.shape)

  -- by its word
  var_word : (a b : Bool) → is_asked true (Binds (if a then Variable else if b then Let else Constant)) ≡ a
  var_word true b = refl
  var_word false true = refl
  var_word false false = refl

  lexical_word : (a b : Bool) → is_asked false (Binds (if a then Variable else if b then Let else Constant)) ≡ not a
  lexical_word true b = refl
  lexical_word false true = refl
  lexical_word false false = refl

  pub asked_var : (word : Text) → is_asked true (bound_role word) ≡ is_word (codes "var") word
  asked_var word = var_word (bytes_eq word (codes "var")) (bytes_eq word (codes "let"))

  pub asked_lexical : (word : Text) → is_asked false (bound_role word) ≡ not (is_word (codes "var") word)
  asked_lexical word = lexical_word (bytes_eq word (codes "var")) (bytes_eq word (codes "let"))

  pub named_where : (b : Bool) (word : Text) (fs : Fields) → declares (names_where b word fs) x ≡ (b && declares (declarations_names (binding_word word) fs) x)
  named_where true word fs = refl
  named_where false word fs = refl

  -- `var` (8.2.6)

  abbrev VarNames : Tree → Type 0
  VarNames t = (r : Role) → is_asked true r ≡ false → is_program (kind_of t) ≡ false → all_nodes stands t ≡ true → bound_by (declared true r t) x ≡ declares (var_names t) x

  vars_trees : (ts : Trees) → any_trees (λ t. declares (var_names t) x) ts ≡ declares (var_names_all ts) x
  vars_trees empty = refl
  vars_trees (t before ts) = ap (λ b. declares (var_names t) x || b) (vars_trees ts) ∙ sym (declares_append (var_names t) (var_names_all ts))

  vars_field : (f : Field) → any_field (λ t. declares (var_names t) x) f ≡ declares (var_names_at f) x
  vars_field missing = refl
  vars_field (one t) = refl
  vars_field (many ts) = vars_trees ts
  vars_field (statements ts) = vars_trees ts

  vars_below : (fs : Fields) → any_below (λ i. true) (λ i t. declares (var_names t) x) fs ≡ declares (var_names_in fs) x
  vars_below done = refl
  vars_below (f then fs) = (λ j. vars_field f j || vars_below fs j) ∙ sym (declares_append (var_names_at f) (var_names_in fs))

  var_fields : (r : Role) (k : AstType) (l : Label) (fs : Fields) → Below (λ i. VarNames) fs → is_declaration k ≡ false → is_asked true r ≡ false → is_program k ≡ false → all_nodes stands (node k l fs) ≡ true → bound_by (declared true r (node k l fs)) x ≡ declares (var_names_in fs) x
  var_fields r k l fs below n o p h =
      let s = standing k l fs h in
      node_bound true r k l fs (declares (var_names_in fs) x) (own_none true r k l o)
      (bound_fields true (reaches_out true k) (role_at r k l fs) (λ i t. declares (var_names t) x) fs
      (from_children k l fs (λ i. VarNames) (λ i t. reaches_out true k i ≡ true → bound_by (declared true (role_at r k l fs i) t) x ≡ declares (var_names t) x) s below
      (λ i t q c g. q (role_at r k l fs i) (role_var r k l fs i s.class n o) c.stands_there.program c.nodes))
      ∙ all_count (reaches_out true k) (λ i t. declares (var_names t) x) fs (λ i. reaches_var k i s.class p) ∙ vars_below fs)

  var_names_are : (k : AstType) (l : Label) (fs : Fields) → Below (λ i. VarNames) fs → VarNames (node k l fs)
  var_names_are VariableDeclaration l fs below r o p h =
      let word = first_text l.texts in
      declaration_named true r l fs (binding_word word) h ∙ ap (λ b. b && declares (declarations_names (binding_word word) fs) x) (asked_var word) ∙ sym (named_where (is_word (codes "var") word) word fs)
  var_names_are k l fs below r o p h = var_fields r k l fs below refl o p h

  pub vars_named : (r : Role) (t : Tree) → is_asked true r ≡ false → is_program (kind_of t) ≡ false → all_nodes stands t ≡ true → bound_by (declared true r t) x ≡ declares (var_names t) x
  vars_named r t = by_parts VarNames var_names_are t r
