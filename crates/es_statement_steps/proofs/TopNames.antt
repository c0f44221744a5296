-- The names that the top of a program binds (ECMA-262, 8.2.6, 16.1.7 and 16.2.1.6) are those that it declares in the machine of statements: what
-- its list declares, imports, and each `var` below.
use Rattle.std.proofs.Common.{◌≡◌, ℕ, zero, suc, refl, sym, ap, ◌∙◌, [], ◌++◌}
use Rattle.std.specs.Prelude.{Bool, true, false, not, ◌&&◌, ◌||◌, codes, if◌then◌else◌}
use Rattle.es_tree.specs.Names.{first_text, third_stands}
use Rattle.es_tree.specs.Scopes.{declares}
use Rattle.es_tree.specs.Tree.{Tree, node, Label, Fields, done, ◌then◌, Field, missing, one, many, statements, Trees, empty, ◌before◌, kind_of}
use Rattle.es_tree.specs.Walks.{all_nodes}
use Rattle.es_tree.specs.Words.{Text}
use Rattle.es_tree.specs.declared.ast_type.AstType.{AstType}
use Rattle.es_tree.specs.declared.ast_type.AstType.TheVariants.{Program, Identifier, VariableDeclaration, ImportDeclaration, ImportSpecifier, ImportDefaultSpecifier, ImportNamespaceSpecifier, ExportNamedDeclaration}
use Rattle.es_semantic.specs.RolesOf.{reads, role_at}
use Rattle.es_semantic.specs.declared.place.Binding.TheVariants.{Import}
use Rattle.es_semantic.specs.declared.place.Role.{Role}
use Rattle.es_semantic.specs.declared.place.Role.TheVariants.{Binds, Nothing, Top}
use Rattle.es_resolution.specs.Declarations.{declared, declared_among, declared_by, declared_in, is_asked, reaches_out}
use Rattle.es_resolution.specs.Resolved.{bound_by, frame, var_frame}
use Rattle.es_resolution.proofs.Declares.{bound-both}
use Rattle.es_resolution.proofs.Tests.{or-false}
use Rattle.es_statement_runs.specs.Names.{binding_word, declarations_names, import_names, is_word, last_name, top_in, top_names, tops, var_names, var_names_all}
use Rattle.es_statement_steps.proofs.Below.{Below, BelowField, BelowTrees, map_below, map_field, map_trees}
use Rattle.es_statement_steps.proofs.DeclaredNames.{Child, asked_export, asked_var, bound_field, children_of, declaration_named, declares_append, inner_none, none_bound, none_field, pattern_names, vars_named}
use Rattle.es_statement_steps.proofs.ScopeNames.{lexical_declaration, lexical_none, with_rest}
use Rattle.es_statement_steps.proofs.Stands.{is_import_item, is_inner, is_name, standing, stands}

module _ (x : Text) where
  -- fields in which nothing is declared at all
  rest_inner : (v : Bool) (k : AstType) (i : ℕ → ℕ) (counts : ℕ → Bool) (roles : ℕ → Role) (fs : Fields) → ((n : ℕ) (t : Tree) → Child k (i n) t → is_inner (kind_of t) ≡ true) → ((n : ℕ) → is_asked v (roles n) ≡ false) → Below (λ n t. Child k (i n) t) fs → bound_by (declared_in v counts roles fs) x ≡ false
  rest_inner v k i counts roles fs e o below = none_bound x v counts roles fs (map_below (λ n t. Child k (i n) t) (λ n t. counts n ≡ true → bound_by (declared v (roles n) t) x ≡ false) (λ n t c g. inner_none x v (roles n) t (o n) (e n t c) c.nodes) fs below)

  field_inner : (v : Bool) (k : AstType) (i : ℕ) (r : Role) (f : Field) → ((t : Tree) → Child k i t → is_inner (kind_of t) ≡ true) → is_asked v r ≡ false → BelowField (Child k i) f → bound_by (declared_by v r f) x ≡ false
  field_inner v k i r f e o c = bound_field x v r (λ t. false) f (map_field (Child k i) (λ t. bound_by (declared v r t) x ≡ false) (λ t d. inner_none x v r t o (e t d) d.nodes) f c) ∙ none_field f

  -- IMPORTS (16.2.2)

  name_bound : (v : Bool) (t : Tree) → is_name (kind_of t) ≡ true → all_nodes stands t ≡ true → bound_by (declared v (Binds Import) t) x ≡ (is_asked v (Binds Import) && declares (last_name (one t then done)) x)
  name_bound v (node Identifier l fs) e h = pattern_names x v (Binds Import) (node Identifier l fs) refl (λ o. refl) h
  name_bound v (node k l fs) e h = absurd (cc e)

  item_bound : (v : Bool) (r : Role) (k : AstType) (l : Label) (fs : Fields) → is_import_item k ≡ true → all_nodes stands (node k l fs) ≡ true → bound_by (declared v r (node k l fs)) x ≡ (is_asked v (Binds Import) && declares (last_name fs) x)
  item_bound true r ImportSpecifier l (one (node j m hs) then (one y then done)) e h =
      let c = children_of ImportSpecifier l (one (node j m hs) then (one y then done)) (standing ImportSpecifier l (one (node j m hs) then (one y then done)) h) in
      bound-both (declared true Nothing (node j m hs)) (declared true (Binds Import) y ++ []) x false (is_asked true (Binds Import) && declares (last_name (one y then done)) x)
      (inner_none x true Nothing (node j m hs) refl c.0.stands_there.part c.0.nodes) (with_rest x (declared true (Binds Import) y) [] (is_asked true (Binds Import) && declares (last_name (one y then done)) x) (name_bound true y c.1.0.stands_there.part c.1.0.nodes) refl)
  item_bound false r ImportSpecifier l (one (node j m hs) then (one y then done)) e h =
      let c = children_of ImportSpecifier l (one (node j m hs) then (one y then done)) (standing ImportSpecifier l (one (node j m hs) then (one y then done)) h) in
      bound-both (declared false Nothing (node j m hs)) (declared false (Binds Import) y ++ []) x false (is_asked false (Binds Import) && declares (last_name (one y then done)) x)
      (inner_none x false Nothing (node j m hs) refl c.0.stands_there.part c.0.nodes) (with_rest x (declared false (Binds Import) y) [] (is_asked false (Binds Import) && declares (last_name (one y then done)) x) (name_bound false y c.1.0.stands_there.part c.1.0.nodes) refl)
  item_bound true r ImportDefaultSpecifier l (one y then done) e h =
      let c = children_of ImportDefaultSpecifier l (one y then done) (standing ImportDefaultSpecifier l (one y then done) h) in
      with_rest x (declared true (Binds Import) y) [] (is_asked true (Binds Import) && declares (last_name (one y then done)) x) (name_bound true y c.0.stands_there.part c.0.nodes) refl
  item_bound false r ImportDefaultSpecifier l (one y then done) e h =
      let c = children_of ImportDefaultSpecifier l (one y then done) (standing ImportDefaultSpecifier l (one y then done) h) in
      with_rest x (declared false (Binds Import) y) [] (is_asked false (Binds Import) && declares (last_name (one y then done)) x) (name_bound false y c.0.stands_there.part c.0.nodes) refl
  item_bound true r ImportNamespaceSpecifier l (one y then done) e h =
      let c = children_of ImportNamespaceSpecifier l (one y then done) (standing ImportNamespaceSpecifier l (one y then done) h) in
      with_rest x (declared true (Binds Import) y) [] (is_asked true (Binds Import) && declares (last_name (one y then done)) x) (name_bound true y c.0.stands_there.part c.0.nodes) refl
  item_bound false r ImportNamespaceSpecifier l (one y then done) e h =
      let c = children_of ImportNamespaceSpecifier l (one y then done) (standing ImportNamespaceSpecifier l (one y then done) h) in
      with_rest x (declared false (Binds Import) y) [] (is_asked false (Binds Import) && declares (last_name (one y then done)) x) (name_bound false y c.0.stands_there.part c.0.nodes) refl
  item_bound v r ImportSpecifier l fs e h = absurd (let s = standing ImportSpecifier l fs h in cc s.shape)
  item_bound v r ImportDefaultSpecifier l fs e h = absurd (let s = standing ImportDefaultSpecifier l fs h in cc s.shape)
  item_bound v r ImportNamespaceSpecifier l fs e h = absurd (let s = standing ImportNamespaceSpecifier l fs h in cc s.shape)
  item_bound v r k l fs e h = absurd (cc e)

  import_items : (v : Bool) (r : Role) (ts : Trees) → BelowTrees (λ t. (is_import_item (kind_of t) ≡ true) × (all_nodes stands t ≡ true)) ts → bound_by (declared_among v r ts) x ≡ (is_asked v (Binds Import) && declares (import_names ts) x)
  import_items true r empty h = refl
  import_items false r empty h = refl
  import_items true r (node k l fs before ts) h = bound-both (declared true r (node k l fs)) (declared_among true r ts) x false false (item_bound true r k l fs h.0.0 h.0.1) (import_items true r ts h.1)
  import_items false r (node k l fs before ts) h =
      bound-both (declared false r (node k l fs)) (declared_among false r ts) x (declares (last_name fs) x) (declares (import_names ts) x) (item_bound false r k l fs h.0.0 h.0.1) (import_items false r ts h.1)
      ∙ sym (declares_append x (last_name fs) (import_names ts))

  import_bound : (v : Bool) (r : Role) (l : Label) (is : Trees) (gs : Fields) → ((i : ℕ) → reaches_out v ImportDeclaration i ≡ true) → all_nodes stands (node ImportDeclaration l (many is then gs)) ≡ true →
      bound_by (declared v r (node ImportDeclaration l (many is then gs))) x ≡ (is_asked v (Binds Import) && declares (import_names is) x)
  import_bound v r l is gs counts h =
      let fs = many is then gs in
      let c = children_of ImportDeclaration l fs (standing ImportDeclaration l fs h) in
      let items = import_items v reads is (map_trees (Child ImportDeclaration zero) (λ t. (is_import_item (kind_of t) ≡ true) × (all_nodes stands t ≡ true)) (λ t d. (d.stands_there.part, d.nodes)) is c.0) in
      with_rest x (if reaches_out v ImportDeclaration zero then declared_among v reads is else []) (declared_in v (λ n. reaches_out v ImportDeclaration (suc n)) (λ n. reads) gs) (is_asked v (Binds Import) && declares (import_names is) x)
      (ap (λ b. bound_by (if b then declared_among v reads is else []) x) (counts zero) ∙ items)
      (rest_inner v ImportDeclaration (λ n. suc n) (λ n. reaches_out v ImportDeclaration (suc n)) (λ n. reads) gs (λ n t d. d.stands_there.part) (λ n. refl) c.1)

  -- EXPORTS (16.2.3)

  export_roles : (v : Bool) (r : Role) (l : Label) (fs : Fields) (n : ℕ) → is_asked v (role_at r ExportNamedDeclaration l fs (suc n)) ≡ false
  export_roles v r l fs zero = asked_export v (third_stands fs)
  export_roles v r l fs (suc n) = refl

  -- beside the declaration nothing is declared
  export_rest : (v : Bool) (r : Role) (l : Label) (f : Field) (gs : Fields) → Below (λ n t. Child ExportNamedDeclaration (suc n) t) gs →
      bound_by (declared_in v (λ n. reaches_out v ExportNamedDeclaration (suc n)) (λ n. role_at r ExportNamedDeclaration l (f then gs) (suc n)) gs) x ≡ false
  export_rest v r l f gs c = rest_inner v ExportNamedDeclaration (λ n. suc n) (λ n. reaches_out v ExportNamedDeclaration (suc n)) (λ n. role_at r ExportNamedDeclaration l (f then gs) (suc n)) gs (λ n t d. d.stands_there.part) (export_roles v r l (f then gs)) c

  export_first : (v : Bool) (r : Role) (l : Label) (t : Tree) (gs : Fields) (a : Bool) → reaches_out v ExportNamedDeclaration zero ≡ true → bound_by (declared v r t) x ≡ a → all_nodes stands (node ExportNamedDeclaration l (one t then gs)) ≡ true → bound_by (declared v r (node ExportNamedDeclaration l (one t then gs))) x ≡ a
  export_first v r l t gs a counts e h =
      let fs = one t then gs in
      let c = children_of ExportNamedDeclaration l fs (standing ExportNamedDeclaration l fs h) in
      with_rest x (if reaches_out v ExportNamedDeclaration zero then declared v r t else []) (declared_in v (λ n. reaches_out v ExportNamedDeclaration (suc n)) (λ n. role_at r ExportNamedDeclaration l fs (suc n)) gs) a
      (ap (λ b. bound_by (if b then declared v r t else []) x) counts ∙ e) (export_rest v r l (one t) gs c.1)

  -- A STATEMENT OF THE PROGRAM

  either_word : (b d : Bool) → ((not b && d) || (b && d)) ≡ d
  either_word true d = refl
  either_word false d = or-false d

  abbrev TopSame : Tree → Type 0
  TopSame t = (bound_by (declared false Top t) x || bound_by (declared true Top t) x) ≡ declares (top_names t) x

  var_declaration : (l : Label) (fs : Fields) → all_nodes stands (node VariableDeclaration l fs) ≡ true → bound_by (declared true Top (node VariableDeclaration l fs)) x ≡ (is_word (codes "var") (first_text l.texts) && declares (declarations_names (binding_word (first_text l.texts)) fs) x)
  var_declaration l fs h = let word = first_text l.texts in declaration_named x true Top l fs (binding_word word) h ∙ ap (λ b. b && declares (declarations_names (binding_word word) fs) x) (asked_var x word)

  top_one : (t : Tree) → Child Program 1 t → TopSame t
  top_one (node VariableDeclaration l fs) c =
      (λ j. lexical_declaration x Top l fs c.nodes j || var_declaration l fs c.nodes j) ∙ either_word (is_word (codes "var") (first_text l.texts)) (declares (declarations_names (binding_word (first_text l.texts)) fs) x)
  top_one (node ImportDeclaration l (many is then gs)) c =
      (λ j. import_bound false Top l is gs (λ i. refl) c.nodes j || import_bound true Top l is gs (λ i. refl) c.nodes j) ∙ or-false (declares (import_names is) x)
  top_one (node ImportDeclaration l fs) c = absurd (let s = standing ImportDeclaration l fs c.nodes in cc s.shape)
  top_one (node ExportNamedDeclaration l (one (node VariableDeclaration m ds) then gs)) c =
      let fs = one (node VariableDeclaration m ds) then gs in
      let word = first_text m.texts in
      let names = declares (declarations_names (binding_word word) ds) x in
      let d = children_of ExportNamedDeclaration l fs (standing ExportNamedDeclaration l fs c.nodes) in
      (λ j. export_first false Top l (node VariableDeclaration m ds) gs (not (is_word (codes "var") word) && names) refl (lexical_declaration x Top m ds d.0.nodes) c.nodes j || export_first true Top l (node VariableDeclaration m ds) gs (is_word (codes "var") word && names) refl (var_declaration m ds d.0.nodes) c.nodes j)
      ∙ either_word (is_word (codes "var") word) names
  top_one (node ExportNamedDeclaration l (missing then gs)) c =
      let fs = missing then gs in
      let d = children_of ExportNamedDeclaration l fs (standing ExportNamedDeclaration l fs c.nodes) in
      λ j. export_rest false Top l missing gs d.1 j || vars_named x Top (node ExportNamedDeclaration l fs) refl refl c.nodes j
  top_one (node ExportNamedDeclaration l (one (node k m hs) then gs)) c =
      let fs = one (node k m hs) then gs in
      let d = children_of ExportNamedDeclaration l fs (standing ExportNamedDeclaration l fs c.nodes) in
      λ j. export_first false Top l (node k m hs) gs false refl (lexical_none x Top (node k m hs) refl (d.0.stands_there.plain refl) d.0.nodes) c.nodes j || vars_named x Top (node ExportNamedDeclaration l fs) refl refl c.nodes j
  top_one (node ExportNamedDeclaration l fs) c = absurd (let s = standing ExportNamedDeclaration l fs c.nodes in cc s.shape)
  top_one (node k l fs) c = λ j. lexical_none x Top (node k l fs) refl (c.stands_there.plain refl) c.nodes j || vars_named x Top (node k l fs) refl c.stands_there.program c.nodes j

  mixed : (a b c d : Bool) → ((a || b) || (c || d)) ≡ ((a || c) || (b || d))
  mixed true b c d = refl
  mixed false true true d = refl
  mixed false true false d = refl
  mixed false false c d = refl

  top_list : (ts : Trees) → BelowTrees (Child Program 1) ts → (bound_by (declared_among false Top ts) x || bound_by (declared_among true Top ts) x) ≡ declares (top_in ts) x
  top_list empty c = refl
  top_list (t before ts) c =
      let one_of = λ (v : Bool). bound-both (declared v Top t) (declared_among v Top ts) x (bound_by (declared v Top t) x) (bound_by (declared_among v Top ts) x) refl refl in
      (λ j. one_of false j || one_of true j)
      ∙ mixed (bound_by (declared false Top t) x) (bound_by (declared_among false Top ts) x) (bound_by (declared true Top t) x) (bound_by (declared_among true Top ts) x)
      ∙ (λ j. top_one t c.0 j || top_list ts c.1 j) ∙ sym (declares_append x (top_names t) (top_in ts))

  -- THE PROGRAM: what its scope binds, by `var` or not

  program_field : (v : Bool) (f : Field) (ts : Trees) → BelowField (Child Program zero) f → bound_by (declared_by v reads f ++ (declared_among v Top ts ++ [])) x ≡ bound_by (declared_among v Top ts) x
  program_field v f ts c =
      bound-both (declared_by v reads f) (declared_among v Top ts ++ []) x false (bound_by (declared_among v Top ts) x) (field_inner v Program zero reads f (λ t d. d.stands_there.part) refl c)
      (with_rest x (declared_among v Top ts) [] (bound_by (declared_among v Top ts) x) refl refl)

  pub program_names : (l : Label) (fs : Fields) → all_nodes stands (node Program l fs) ≡ true →
      (bound_by (frame Program l (role_at reads Program l fs) fs) x || bound_by (var_frame (role_at reads Program l fs) fs) x) ≡ declares (tops fs) x
  program_names l (many ds then (statements ts then done)) h =
      let fs = many ds then (statements ts then done) in
      let c = children_of Program l fs (standing Program l fs h) in
      (λ j. program_field false (many ds) ts c.0 j || program_field true (many ds) ts c.0 j) ∙ top_list ts c.1.0
  program_names l fs h = absurd (let s = standing Program l fs h in cc s.shape)

  -- WHAT HOISTS OUT OF ITS STATEMENTS is declared at the top

  any_or : (a b : Bool) → b ≡ true → (a || b) ≡ true
  any_or true b e = refl
  any_or false b e = e

  hoisted_one : (t : Tree) → Child Program 1 t → declares (var_names t) x ≡ true → declares (top_names t) x ≡ true
  hoisted_one t c e = sym (top_one t c) ∙ any_or (bound_by (declared false Top t) x) (bound_by (declared true Top t) x) (vars_named x Top t refl c.stands_there.program c.nodes ∙ e)

  hoisted_list : (ts : Trees) → BelowTrees (Child Program 1) ts → declares (var_names_all ts) x ≡ true → declares (top_in ts) x ≡ true
  hoisted_list empty c e = e
  hoisted_list (t before ts) c e = declares_append x (top_names t) (top_in ts) ∙ at (declares (var_names t) x) refl (sym (declares_append x (var_names t) (var_names_all ts)) ∙ e) (hoisted_list ts c.1)
    where
      first : (b : Bool) → b ≡ true → (b || declares (top_in ts) x) ≡ true
      first true g = refl
      first false g = absurd (cc g)

      at : (b : Bool) → declares (var_names t) x ≡ b → (declares (var_names t) x || declares (var_names_all ts) x) ≡ true → (declares (var_names_all ts) x ≡ true → declares (top_in ts) x ≡ true) → (declares (top_names t) x || declares (top_in ts) x) ≡ true
      at true g h k = first (declares (top_names t) x) (hoisted_one t c.0 g)
      at false g h k = any_or (declares (top_names t) x) (declares (top_in ts) x) (k (sym (ap (λ b. b || declares (var_names_all ts) x) g) ∙ h))

  pub hoisted_top : (l : Label) (ds ts : Trees) → all_nodes stands (node Program l (many ds then (statements ts then done))) ≡ true → declares (var_names_all ts) x ≡ true → declares (top_in ts) x ≡ true
  hoisted_top l ds ts h e = let fs = many ds then (statements ts then done) in let c = children_of Program l fs (standing Program l fs h) in hoisted_list ts c.1.0 e
