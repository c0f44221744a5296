-- What scopes declare where one declaration declares fresh names more.
use Rattle.std.proofs.Common.{◌≡◌, ℕ, zero, suc, refl, sym, ap, ◌∙◌, List, ◌++◌}
use Rattle.std.specs.Prelude.{Bool, true, false, not, ◌||◌, ◌&&◌, codes}
use Rattle.std.proofs.lemmas.Bool.{and_parts}
use Rattle.es_tree.specs.Names.{first_text}
use Rattle.es_tree.specs.Scopes.{Declared, declares}
use Rattle.es_tree.specs.Tree.{Tree, node, Label, Fields, done, ◌then◌, Field, missing, one, many, statements, Trees, empty, ◌before◌, kind_of}
use Rattle.es_tree.specs.Walks.{all_nodes, all_in_fields}
use Rattle.es_tree.specs.Words.{Text}
use Rattle.es_tree.specs.declared.ast_type.AstType.{AstType}
use Rattle.es_tree.specs.declared.ast_type.AstType.TheVariants.{Identifier, ImportDeclaration, ImportDefaultSpecifier, ImportNamespaceSpecifier, ImportSpecifier, SwitchCase, VariableDeclaration, VariableDeclarator}
use Rattle.es_statement_runs.specs.Laws.{among_names}
use Rattle.es_statement_runs.specs.Names.{binding_word, cases_names, cases_use, is_word, lexical_in, lexical_names, names_where, using_here, using_in, var_names, var_names_all, var_names_at, var_names_in}
use Rattle.es_statement_steps.proofs.Below.{Below, BelowField, BelowTrees, both_below, fields_passed, map_below, nodes_below}
use Rattle.es_statement_steps.proofs.DeclaredNames.{declares_append}
use Rattle.es_statement_steps.proofs.Stands.{child_parts, child_stands, is_case, is_declaration, is_import_item, is_inner, is_name, is_plain, parts_fit, shaped, standing, stands, word_of}
use Rattle.es_split_runs.specs.Growing.{NamesMore}
use Rattle.es_split_runs.specs.Growing.NamesMore.{as_before, no_names, one_more}
use Rattle.es_split_runs.proofs.GrownScopes.{same_names}
use Rattle.es_rest_runs.specs.Changing.{Changed, ChangedAmong, ChangedBy, ChangedIn}
use Rattle.es_rest_runs.specs.Changing.Changed.{below, here}
use Rattle.es_rest_runs.specs.Changing.ChangedAmong.{head_of, tail_of}
use Rattle.es_rest_runs.specs.Changing.ChangedBy.{many_of, one_of, statements_of}
use Rattle.es_rest_runs.specs.Changing.ChangedIn.{first_of, later_of}
use Rattle.es_rest_runs.specs.Growth.{Grows}
use Rattle.es_rest_runs.specs.Tests.{field_passes as heads_pass_field, fields_pass as heads_pass, head_alone, lone_head, sized, tested, trees_pass as heads_pass_trees, using_fine}
use Rattle.es_rest_runs.specs.Growth.Grows.{grows}

-- WHAT IS KNOWN OF A TREE: where its nodes stand, and the tests of `tested`

abbrev pub Apt : Tree → Type 0
Apt t = (all_nodes stands t ≡ true) × (all_nodes tested t ≡ true)

-- what passes a test of fields
trees_so : (c : Tree → Bool) (ts : Trees) → heads_pass_trees c ts ≡ true → BelowTrees (λ t. c t ≡ true) ts
trees_so c empty h = tt
trees_so c (t before ts) h = let d = and_parts (c t) (heads_pass_trees c ts) h in (d.0, trees_so c ts d.1)

field_so : (c : Tree → Bool) (f : Field) → heads_pass_field c f ≡ true → BelowField (λ t. c t ≡ true) f
field_so c missing h = tt
field_so c (one t) h = h
field_so c (many ts) h = trees_so c ts h
field_so c (statements ts) h = trees_so c ts h

heads_so : (c : ℕ → Tree → Bool) (fs : Fields) → heads_pass c fs ≡ true → Below (λ i t. c i t ≡ true) fs
heads_so c done h = tt
heads_so c (f then fs) h = let d = and_parts (heads_pass_field (c zero) f) (heads_pass (λ i. c (suc i)) fs) h in (field_so (c zero) f d.0, heads_so (λ i. c (suc i)) fs d.1)

-- what is known of the parts of a node
abbrev pub Part : AstType → ℕ → Tree → Type 0
Part k i t = Apt t × ((child_stands k i t ≡ true) × (head_alone k i t ≡ true))

pub parts_of : (k : AstType) (l : Label) (fs : Fields) → Apt (node k l fs) → Below (λ i t. Part k i t) fs
parts_of k l fs h =
    let s = standing k l fs h.0 in
    let d = and_parts (tested k l fs) (all_in_fields tested fs) h.1 in
    both_below (λ i. Apt) (λ i t. (child_stands k i t ≡ true) × (head_alone k i t ≡ true)) fs
    (both_below (λ i t. all_nodes stands t ≡ true) (λ i t. all_nodes tested t ≡ true) fs (nodes_below stands fs s.below) (nodes_below tested fs d.1))
    (both_below (λ i t. child_stands k i t ≡ true) (λ i t. head_alone k i t ≡ true) fs (fields_passed (child_stands k) fs s.children) (heads_so (head_alone k) fs (and_parts (sized k fs && using_fine k l fs) (heads_pass (head_alone k) fs) d.0).1))

pub sized_so : (k : AstType) (l : Label) (fs : Fields) → Apt (node k l fs) → sized k fs ≡ true
sized_so k l fs h = (and_parts (sized k fs) (using_fine k l fs) (and_parts (sized k fs && using_fine k l fs) (heads_pass (head_alone k) fs) (and_parts (tested k l fs) (all_in_fields tested fs) h.1).0).0).0

pub using_so : (k : AstType) (l : Label) (fs : Fields) → Apt (node k l fs) → using_fine k l fs ≡ true
using_so k l fs h = (and_parts (sized k fs) (using_fine k l fs) (and_parts (sized k fs && using_fine k l fs) (heads_pass (head_alone k) fs) (and_parts (tested k l fs) (all_in_fields tested fs) h.1).0).0).1

-- cases alone
abbrev pub Cased : Tree → Type 0
Cased t = Apt t × (is_case (kind_of t) ≡ true)

-- NAMES

or_so : (b : Bool) → (b || true) ≡ true
or_so true = refl
or_so false = refl

module _ (xs : List Text) where
  abbrev pub Decl : List Declared → Type 0
  Decl D = (x : Text) → among_names xs x ≡ true → declares D x ≡ true

  pub in_left : (ds es : List Declared) → Decl ds → Decl (ds ++ es)
  in_left ds es h x e = declares_append x ds es ∙ ap (λ b. b || declares es x) (h x e)

  pub in_right : (ds es : List Declared) → Decl es → Decl (ds ++ es)
  in_right ds es h x e = declares_append x ds es ∙ ap (λ b. declares ds x || b) (h x e) ∙ or_so (declares ds x)

  pub more_append : {ds es cs bs : List Declared} → NamesMore (among_names xs) ds es → NamesMore (among_names xs) cs bs → NamesMore (among_names xs) (ds ++ cs) (es ++ bs)
  more_append no_names g = g
  more_append (as_before h) g = as_before (more_append h g)
  more_append (one_more e h) g = one_more e (more_append h g)

-- NO DECLARATION STANDS in an expression or a pattern

module _ (A : Tree → Tree → Type 0) (outer : (a b : Tree) → A a b → is_inner (kind_of a) ≡ true → ⊥) where
  abbrev Inner : Tree → Type 0
  Inner t = Apt t × (is_inner (kind_of t) ≡ true)

  mutual
    pub none_inside : {a b : Tree} → Changed A a b → Apt a → is_inner (kind_of a) ≡ true → ⊥
    none_inside (here {a = a} {b = b} h) apt e = outer a b h e
    none_inside (below {k = k} {l = l} {fs = fs} h) apt e = none_in h (map_below (λ i t. Part k i t) (λ i. Inner) (λ i t p. (p.0, (child_parts k i t p.1.0).inner e)) fs (parts_of k l fs apt))

    pub none_in : {fs gs : Fields} → ChangedIn A fs gs → Below (λ i. Inner) fs → ⊥
    none_in (first_of h) p = none_by h p.0
    none_in (later_of h) p = none_in h p.1

    pub none_by : {f g : Field} → ChangedBy A f g → BelowField Inner f → ⊥
    none_by (one_of h) p = none_inside h p.0 p.1
    none_by (many_of h) p = none_among h p
    none_by (statements_of h) p = none_among h p

    none_among : {ts us : Trees} → ChangedAmong A ts us → BelowTrees Inner ts → ⊥
    none_among (head_of h) p = none_inside h p.0.0 p.0.1
    none_among (tail_of h) p = none_among h p.1

module _ (v : Bool) (xs : List Text) (A : Tree → Tree → Type 0) (grow : (a b : Tree) → A a b → Grows v xs a b) where
  abbrev pub More : List Declared → List Declared → Type 0
  More = NamesMore (among_names xs)

  same : (ds : List Declared) → More ds ds
  same = same_names (among_names xs)

  -- nor in a declaration
  not_inner : {a b : Tree} → Grows v xs a b → is_inner (kind_of a) ≡ true → ⊥
  not_inner (grows m ds es word lone more names) e = absurd (cc e)

  pub inner_still : {a b : Tree} → Changed A a b → Apt a → is_inner (kind_of a) ≡ true → ⊥
  inner_still h = none_inside A (λ a b g. not_inner (grow a b g)) h

  pub inner_in : {fs gs : Fields} → ChangedIn A fs gs → Below (λ i t. Apt t × (is_inner (kind_of t) ≡ true)) fs → ⊥
  inner_in h = none_in A (λ a b g. not_inner (grow a b g)) h

  pub inner_by : {f g : Field} → ChangedBy A f g → BelowField (λ t. Apt t × (is_inner (kind_of t) ≡ true)) f → ⊥
  inner_by h = none_by A (λ a b g. not_inner (grow a b g)) h

  declarator_inner : (i : ℕ) (j : AstType) → parts_fit VariableDeclaration i j ≡ true → is_inner j ≡ true
  declarator_inner zero VariableDeclarator e = refl
  declarator_inner zero _ e = absurd (cc e)
  declarator_inner (suc i) j e = absurd (cc e)

  pub declaration_still : {fs gs : Fields} (l : Label) → ChangedIn A fs gs → Apt (node VariableDeclaration l fs) → ⊥
  declaration_still {fs = fs} l h apt = inner_in h (map_below (λ i t. Part VariableDeclaration i t) (λ i t. Apt t × (is_inner (kind_of t) ≡ true)) (λ i t p. (p.0, declarator_inner i (kind_of t) (child_parts VariableDeclaration i t p.1.0).part)) fs (parts_of VariableDeclaration l fs apt))

  -- nor in an import
  not_item : {a b : Tree} → Grows v xs a b → is_import_item (kind_of a) ≡ true → ⊥
  not_item (grows m ds es word lone more names) e = absurd (cc e)

  name_inner : (j : AstType) → is_name j ≡ true → is_inner j ≡ true
  name_inner Identifier e = refl
  name_inner _ e = absurd (cc e)

  pub item_in : {fs gs : Fields} (k : AstType) → is_import_item k ≡ true → ChangedIn A fs gs → shaped k fs ≡ true → Below (λ i t. Part k i t) fs → ⊥
  item_in ImportSpecifier e (first_of (one_of {a = a} h)) s p = inner_still h p.0.0 (child_parts ImportSpecifier 0 a p.0.1.0).part
  item_in ImportSpecifier e (first_of (many_of h)) s p = absurd (cc s)
  item_in ImportSpecifier e (first_of (statements_of h)) s p = absurd (cc s)
  item_in ImportSpecifier e (later_of {f = missing} h) s p = absurd (cc s)
  item_in ImportSpecifier e (later_of {f = many ts} h) s p = absurd (cc s)
  item_in ImportSpecifier e (later_of {f = statements ts} h) s p = absurd (cc s)
  item_in ImportSpecifier e (later_of {f = one x} (first_of (one_of {a = a} h))) s p = inner_still h p.1.0.0 (name_inner (kind_of a) (child_parts ImportSpecifier 1 a p.1.0.1.0).part)
  item_in ImportSpecifier e (later_of {f = one x} (first_of (many_of h))) s p = absurd (cc s)
  item_in ImportSpecifier e (later_of {f = one x} (first_of (statements_of h))) s p = absurd (cc s)
  item_in ImportSpecifier e (later_of {f = one x} (later_of {f = missing} h)) s p = absurd (cc s)
  item_in ImportSpecifier e (later_of {f = one x} (later_of {f = many ts} h)) s p = absurd (cc s)
  item_in ImportSpecifier e (later_of {f = one x} (later_of {f = statements ts} h)) s p = absurd (cc s)
  item_in ImportSpecifier e (later_of {f = one x} (later_of {f = one y} (first_of h))) s p = absurd (cc s)
  item_in ImportSpecifier e (later_of {f = one x} (later_of {f = one y} (later_of h))) s p = absurd (cc s)
  item_in ImportDefaultSpecifier e (first_of (one_of {a = a} h)) s p = inner_still h p.0.0 (name_inner (kind_of a) (child_parts ImportDefaultSpecifier 0 a p.0.1.0).part)
  item_in ImportDefaultSpecifier e (first_of (many_of h)) s p = absurd (cc s)
  item_in ImportDefaultSpecifier e (first_of (statements_of h)) s p = absurd (cc s)
  item_in ImportDefaultSpecifier e (later_of {f = missing} h) s p = absurd (cc s)
  item_in ImportDefaultSpecifier e (later_of {f = many ts} h) s p = absurd (cc s)
  item_in ImportDefaultSpecifier e (later_of {f = statements ts} h) s p = absurd (cc s)
  item_in ImportDefaultSpecifier e (later_of {f = one x} (first_of h)) s p = absurd (cc s)
  item_in ImportDefaultSpecifier e (later_of {f = one x} (later_of h)) s p = absurd (cc s)
  item_in ImportNamespaceSpecifier e (first_of (one_of {a = a} h)) s p = inner_still h p.0.0 (name_inner (kind_of a) (child_parts ImportNamespaceSpecifier 0 a p.0.1.0).part)
  item_in ImportNamespaceSpecifier e (first_of (many_of h)) s p = absurd (cc s)
  item_in ImportNamespaceSpecifier e (first_of (statements_of h)) s p = absurd (cc s)
  item_in ImportNamespaceSpecifier e (later_of {f = missing} h) s p = absurd (cc s)
  item_in ImportNamespaceSpecifier e (later_of {f = many ts} h) s p = absurd (cc s)
  item_in ImportNamespaceSpecifier e (later_of {f = statements ts} h) s p = absurd (cc s)
  item_in ImportNamespaceSpecifier e (later_of {f = one x} (first_of h)) s p = absurd (cc s)
  item_in ImportNamespaceSpecifier e (later_of {f = one x} (later_of h)) s p = absurd (cc s)
  item_in _ e h s p = absurd (cc e)

  item_still : {a b : Tree} → Changed A a b → Apt a → is_import_item (kind_of a) ≡ true → ⊥
  item_still (here {a = a} {b = b} h) apt e = not_item (grow a b h) e
  item_still (below {k = k} {l = l} {fs = fs} h) apt e = item_in k e h (standing k l fs apt.0).shape (parts_of k l fs apt)

  items_still : {ts us : Trees} → ChangedAmong A ts us → BelowTrees (Part ImportDeclaration 0) ts → ⊥
  items_still (head_of {a = a} h) p = item_still h p.0.0 (child_parts ImportDeclaration 0 a p.0.1.0).part
  items_still (tail_of h) p = items_still h p.1

  import_in : {fs gs : Fields} → ChangedIn A fs gs → shaped ImportDeclaration fs ≡ true → Below (λ i t. Part ImportDeclaration i t) fs → ⊥
  import_in (first_of (one_of h)) s p = absurd (cc s)
  import_in (first_of (many_of h)) s p = items_still h p.0
  import_in (first_of (statements_of h)) s p = absurd (cc s)
  import_in (later_of {fs = fs} h) s p = inner_in h (map_below (λ i t. Part ImportDeclaration (suc i) t) (λ i t. Apt t × (is_inner (kind_of t) ≡ true)) (λ i t q. (q.0, (child_parts ImportDeclaration (suc i) t q.1.0).part)) fs p.1)

  pub import_still : {fs gs : Fields} (l : Label) → ChangedIn A fs gs → Apt (node ImportDeclaration l fs) → ⊥
  import_still {fs = fs} l h apt = import_in h (standing ImportDeclaration l fs apt.0).shape (parts_of ImportDeclaration l fs apt)

  -- WHAT A STATEMENT DECLARES in its list
  grown_lexical : {a b : Tree} → Grows v xs a b → More (lexical_names a) (lexical_names b)
  grown_lexical (grows m ds es word lone more names) = at (not (is_word (codes "var") (first_text m.texts)))
    where
      at : (c : Bool) → More (names_where c (first_text m.texts) (many ds then done)) (names_where c (first_text m.texts) (many es then done))
      at true = more (binding_word (first_text m.texts))
      at false = no_names

  pub lexical_more : {a b : Tree} → Changed A a b → Apt a → More (lexical_names a) (lexical_names b)
  lexical_more (here {a = a} {b = b} h) apt = grown_lexical (grow a b h)
  lexical_more (below {k = k} {l = l} {fs = fs} {gs = gs} h) apt = at k apt
    where
      at : (k : AstType) → Apt (node k l fs) → More (lexical_names (node k l fs)) (lexical_names (node k l gs))
      at VariableDeclaration apt = absurd (declaration_still l h apt)
      at _ apt = no_names

  pub lexical_more_in : {ts us : Trees} → ChangedAmong A ts us → BelowTrees Apt ts → More (lexical_in ts) (lexical_in us)
  lexical_more_in (head_of {ts = ts} h) p = more_append xs (lexical_more h p.0) (same (lexical_in ts))
  lexical_more_in (tail_of {a = a} h) p = more_append xs (same (lexical_names a)) (lexical_more_in h p.1)

  grown_use : {a b : Tree} → Grows v xs a b → using_here b ≡ using_here a
  grown_use (grows m ds es word lone more names) = refl

  pub using_same : {a b : Tree} → Changed A a b → using_here b ≡ using_here a
  using_same (here {a = a} {b = b} h) = grown_use (grow a b h)
  using_same (below {k = k} {l = l} {fs = fs} {gs = gs} h) = at k
    where
      at : (k : AstType) → using_here (node k l gs) ≡ using_here (node k l fs)
      at VariableDeclaration = refl
      at _ = refl

  pub using_same_in : {ts us : Trees} → ChangedAmong A ts us → using_in us ≡ using_in ts
  using_same_in (head_of {ts = ts} h) = ap (λ b. b || using_in ts) (using_same h)
  using_same_in (tail_of {a = a} h) = ap (λ b. using_here a || b) (using_same_in h)

  -- WHAT HOISTS
  grown_vars : {a b : Tree} → Grows v xs a b → More (var_names a) (var_names b)
  grown_vars (grows m ds es word lone more names) = at (is_word (codes "var") (first_text m.texts))
    where
      at : (c : Bool) → More (names_where c (first_text m.texts) (many ds then done)) (names_where c (first_text m.texts) (many es then done))
      at true = more (binding_word (first_text m.texts))
      at false = no_names

  apt_parts : (k : AstType) (l : Label) (fs : Fields) → Apt (node k l fs) → Below (λ i. Apt) fs
  apt_parts k l fs apt = map_below (λ i t. Part k i t) (λ i. Apt) (λ i t p. p.0) fs (parts_of k l fs apt)

  var_node : {fs gs : Fields} (k : AstType) (l : Label) → ChangedIn A fs gs → Apt (node k l fs) → More (var_names_in fs) (var_names_in gs) → More (var_names (node k l fs)) (var_names (node k l gs))
  var_node VariableDeclaration l h apt m = absurd (declaration_still l h apt)
  var_node _ l h apt m = m

  mutual
    pub var_more : {a b : Tree} → Changed A a b → Apt a → More (var_names a) (var_names b)
    var_more (here {a = a} {b = b} h) apt = grown_vars (grow a b h)
    var_more (below {k = k} {l = l} {fs = fs} {gs = gs} h) apt = var_node k l h apt (var_more_in h (apt_parts k l fs apt))

    var_more_in : {fs gs : Fields} → ChangedIn A fs gs → Below (λ i. Apt) fs → More (var_names_in fs) (var_names_in gs)
    var_more_in (first_of {fs = fs} h) p = more_append xs (var_more_at h p.0) (same (var_names_in fs))
    var_more_in (later_of {f = f} h) p = more_append xs (same (var_names_at f)) (var_more_in h p.1)

    var_more_at : {f g : Field} → ChangedBy A f g → BelowField Apt f → More (var_names_at f) (var_names_at g)
    var_more_at (one_of h) p = var_more h p
    var_more_at (many_of h) p = var_more_all h p
    var_more_at (statements_of h) p = var_more_all h p

    var_more_all : {ts us : Trees} → ChangedAmong A ts us → BelowTrees Apt ts → More (var_names_all ts) (var_names_all us)
    var_more_all (head_of {ts = ts} h) p = more_append xs (var_more h p.0) (same (var_names_all ts))
    var_more_all (tail_of {a = a} h) p = more_append xs (same (var_names a)) (var_more_all h p.1)

  -- where it is by `var`, the names hoist
  grown_hoist : {a b : Tree} → Grows v xs a b → v ≡ true → Decl xs (var_names b)
  grown_hoist (grows m ds es word lone more names) e = at (is_word (codes "var") (first_text m.texts)) (word ∙ e)
    where
      at : (c : Bool) → c ≡ true → Decl xs (names_where c (first_text m.texts) (many es then done))
      at true e = names (binding_word (first_text m.texts))
      at false e = absurd (cc e)

  hoist_node : {fs gs : Fields} (k : AstType) (l : Label) → ChangedIn A fs gs → Apt (node k l fs) → Decl xs (var_names_in gs) → Decl xs (var_names (node k l gs))
  hoist_node VariableDeclaration l h apt d = absurd (declaration_still l h apt)
  hoist_node _ l h apt d = d

  mutual
    pub var_declares : {a b : Tree} → Changed A a b → Apt a → v ≡ true → Decl xs (var_names b)
    var_declares (here {a = a} {b = b} h) apt e = grown_hoist (grow a b h) e
    var_declares (below {k = k} {l = l} {fs = fs} {gs = gs} h) apt e = hoist_node k l h apt (var_declares_in h (apt_parts k l fs apt) e)

    var_declares_in : {fs gs : Fields} → ChangedIn A fs gs → Below (λ i. Apt) fs → v ≡ true → Decl xs (var_names_in gs)
    var_declares_in (first_of {g = g} {fs = fs} h) p e = in_left xs (var_names_at g) (var_names_in fs) (var_declares_at h p.0 e)
    var_declares_in (later_of {f = f} {gs = gs} h) p e = in_right xs (var_names_at f) (var_names_in gs) (var_declares_in h p.1 e)

    var_declares_at : {f g : Field} → ChangedBy A f g → BelowField Apt f → v ≡ true → Decl xs (var_names_at g)
    var_declares_at (one_of h) p e = var_declares h p e
    var_declares_at (many_of h) p e = var_declares_all h p e
    var_declares_at (statements_of h) p e = var_declares_all h p e

    var_declares_all : {ts us : Trees} → ChangedAmong A ts us → BelowTrees Apt ts → v ≡ true → Decl xs (var_names_all us)
    var_declares_all (head_of {b = b} {ts = ts} h) p e = in_left xs (var_names b) (var_names_all ts) (var_declares h p.0 e)
    var_declares_all (tail_of {a = a} {us = us} h) p e = in_right xs (var_names a) (var_names_all us) (var_declares_all h p.1 e)

  -- and else its list declares them
  grown_here : {a b : Tree} → Grows v xs a b → is_plain (kind_of a) (word_of a) ≡ false → Decl xs (lexical_names b)
  grown_here (grows m ds es word lone more names) e = at (is_word (codes "var") (first_text m.texts)) e
    where
      at : (c : Bool) → c ≡ false → Decl xs (names_where (not c) (first_text m.texts) (many es then done))
      at true e = absurd (cc e)
      at false e = names (binding_word (first_text m.texts))

  pub lexical_declares : {a b : Tree} → Changed A a b → Apt a → is_declaration (kind_of a) ≡ true → is_plain (kind_of a) (word_of a) ≡ false → Decl xs (lexical_names b)
  lexical_declares (here {a = a} {b = b} h) apt d e = grown_here (grow a b h) e
  lexical_declares (below {k = k} {l = l} {fs = fs} {gs = gs} h) apt d e = at k apt d
    where
      at : (k : AstType) → Apt (node k l fs) → is_declaration k ≡ true → Decl xs (lexical_names (node k l gs))
      at VariableDeclaration apt d = absurd (declaration_still l h apt)
      at _ apt d = absurd (cc d)

  -- it stands in no head of for-in and for-of
  grown_headless : {a b : Tree} → Grows v xs a b → lone_head a ≡ true → ⊥
  grown_headless (grows m ds es word lone more names) e = absurd (let no : true ≡ false = sym e ∙ lone in cc no)

  pub headless : {a b : Tree} → Changed A a b → Apt a → lone_head a ≡ true → is_declaration (kind_of a) ≡ true → ⊥
  headless (here {a = a} {b = b} h) apt e d = grown_headless (grow a b h) e
  headless (below {k = k} {l = l} {fs = fs} {gs = gs} h) apt e d = at k apt d
    where
      at : (k : AstType) → Apt (node k l fs) → is_declaration k ≡ true → ⊥
      at VariableDeclaration apt d = declaration_still l h apt
      at _ apt d = absurd (cc d)

  -- THE CASES of a `switch`
  pub case_kind : {a b : Tree} → Grows v xs a b → is_case (kind_of a) ≡ true → ⊥
  case_kind (grows m ds es word lone more names) e = absurd (cc e)

  case_more : {fs gs : Fields} (l : Label) (cs : Trees) → ChangedIn A fs gs → Below (λ i. Apt) fs → shaped SwitchCase fs ≡ true → More (cases_names (node SwitchCase l fs before cs)) (cases_names (node SwitchCase l gs before cs))
  case_more l cs (first_of {fs = done} h) p e = absurd (cc e)
  case_more l cs (first_of {fs = missing then fs} h) p e = absurd (cc e)
  case_more l cs (first_of {fs = one t then fs} h) p e = absurd (cc e)
  case_more l cs (first_of {fs = many ts then fs} h) p e = absurd (cc e)
  case_more l cs (first_of {fs = statements ts then fs} h) p e = same (lexical_in ts ++ cases_names cs)
  case_more l cs (later_of (first_of (one_of h))) p e = absurd (cc e)
  case_more l cs (later_of (first_of (many_of h))) p e = absurd (cc e)
  case_more l cs (later_of (first_of (statements_of h))) p e = more_append xs (lexical_more_in h p.1.0) (same (cases_names cs))
  case_more l cs (later_of (later_of {f = missing} h)) p e = absurd (cc e)
  case_more l cs (later_of (later_of {f = one t} h)) p e = absurd (cc e)
  case_more l cs (later_of (later_of {f = many ts} h)) p e = absurd (cc e)
  case_more l cs (later_of (later_of {f = statements ts} h)) p e = same (lexical_in ts ++ cases_names cs)

  case_use : {fs gs : Fields} (l : Label) (cs : Trees) → ChangedIn A fs gs → shaped SwitchCase fs ≡ true → cases_use (node SwitchCase l gs before cs) ≡ cases_use (node SwitchCase l fs before cs)
  case_use l cs (first_of {fs = done} h) e = absurd (cc e)
  case_use l cs (first_of {fs = missing then fs} h) e = absurd (cc e)
  case_use l cs (first_of {fs = one t then fs} h) e = absurd (cc e)
  case_use l cs (first_of {fs = many ts then fs} h) e = absurd (cc e)
  case_use l cs (first_of {fs = statements ts then fs} h) e = refl
  case_use l cs (later_of (first_of (one_of h))) e = absurd (cc e)
  case_use l cs (later_of (first_of (many_of h))) e = absurd (cc e)
  case_use l cs (later_of (first_of (statements_of h))) e = ap (λ b. b || cases_use cs) (using_same_in h)
  case_use l cs (later_of (later_of {f = missing} h)) e = absurd (cc e)
  case_use l cs (later_of (later_of {f = one t} h)) e = absurd (cc e)
  case_use l cs (later_of (later_of {f = many ts} h)) e = absurd (cc e)
  case_use l cs (later_of (later_of {f = statements ts} h)) e = refl

  pub cases_more : {cs es : Trees} → ChangedAmong A cs es → BelowTrees Cased cs → More (cases_names cs) (cases_names es)
  cases_more (head_of (here {a = a} {b = b} h)) p = absurd (case_kind (grow a b h) p.0.1)
  cases_more (head_of {ts = cs} (below {k = k} {l = l} {fs = fs} {gs = gs} h)) p = at k p.0.0 p.0.1
    where
      at : (k : AstType) → Apt (node k l fs) → is_case k ≡ true → More (cases_names (node k l fs before cs)) (cases_names (node k l gs before cs))
      at SwitchCase apt e = case_more l cs h (apt_parts SwitchCase l fs apt) (standing SwitchCase l fs apt.0).shape
      at _ apt e = absurd (cc e)
  cases_more (tail_of {a = a} {ts = cs} {us = es} h) p = after a cs es (cases_more h p.1)
    where
      after : (a : Tree) (cs es : Trees) → More (cases_names cs) (cases_names es) → More (cases_names (a before cs)) (cases_names (a before es))
      after (node k l done) cs es g = g
      after (node k l (f then done)) cs es g = g
      after (node k l (f then (missing then fs))) cs es g = g
      after (node k l (f then (one t then fs))) cs es g = g
      after (node k l (f then (many ts then fs))) cs es g = g
      after (node k l (f then (statements ts then fs))) cs es g = more_append xs (same (lexical_in ts)) g

  pub cases_use_same : {cs es : Trees} → ChangedAmong A cs es → BelowTrees Cased cs → cases_use es ≡ cases_use cs
  cases_use_same (head_of (here {a = a} {b = b} h)) p = absurd (case_kind (grow a b h) p.0.1)
  cases_use_same (head_of {ts = cs} (below {k = k} {l = l} {fs = fs} {gs = gs} h)) p = at k p.0.0 p.0.1
    where
      at : (k : AstType) → Apt (node k l fs) → is_case k ≡ true → cases_use (node k l gs before cs) ≡ cases_use (node k l fs before cs)
      at SwitchCase apt e = case_use l cs h (standing SwitchCase l fs apt.0).shape
      at _ apt e = absurd (cc e)
  cases_use_same (tail_of {a = a} {ts = cs} {us = es} h) p = after a cs es (cases_use_same h p.1)
    where
      after : (a : Tree) (cs es : Trees) → cases_use es ≡ cases_use cs → cases_use (a before es) ≡ cases_use (a before cs)
      after (node k l done) cs es g = g
      after (node k l (f then done)) cs es g = g
      after (node k l (f then (missing then fs))) cs es g = g
      after (node k l (f then (one t then fs))) cs es g = g
      after (node k l (f then (many ts then fs))) cs es g = g
      after (node k l (f then (statements ts then fs))) cs es g = ap (λ b. using_in ts || b) g
