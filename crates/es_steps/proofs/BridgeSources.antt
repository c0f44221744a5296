-- A core program as it is seen with the marks of its scope table: each name has the symbol that it has in the program's scope.
use Rattle.std.proofs.Common.{◌≡◌, ◌+◌, ℕ, zero, suc, refl, ap, subst, ◌∙◌, List, [], ◌++◌}
use Rattle.std.proofs.lemmas.Bool.{and_parts}
use Rattle.std.specs.Prelude.{Bool, true, false, ◌||◌, Option, Some, None, is_some, bytes_eq, if◌then◌else◌}
use Rattle.es_tree.specs.Attributes.{child_entries}
use Rattle.es_tree.specs.Core.{is_core_kind, is_core_node}
use Rattle.es_tree.specs.Fresh.{is_among}
use Rattle.es_tree.specs.HasForm.{elements_of, match_option, fields_form, elements_form}
use Rattle.es_tree.specs.Names.{first_text, is_name_place, is_reexport, names_if, names_in_field, names_in_fields, names_in_trees, own_name}
use Rattle.es_tree.specs.Tree.{Tree, node, Label, Fields, done, ◌then◌, Field, missing, one, many, statements, Trees, empty, ◌before◌}
use Rattle.es_tree.specs.Walks.{all_nodes, all_in_fields, all_in_field, all_in_trees}
use Rattle.es_tree.specs.Words.{Text}
use Rattle.es_tree.specs.declared.ast_type.AstType.{AstType}
use Rattle.es_tree.specs.declared.ast_type.AstType.TheVariants.{
  ArrayPattern,
  ArrayTarget,
  ArrowFunctionExpression,
  AssignmentExpression,
  AssignmentPattern,
  CatchClause,
  ClassDeclaration,
  BreakStatement,
  ClassExpression,
  ContinueStatement,
  ExportAllDeclaration,
  ExportDefaultDeclaration,
  ExportNamedDeclaration,
  ExportSpecifier,
  ForInStatement,
  ForOfStatement,
  FunctionBody,
  FunctionDeclaration,
  FunctionExpression,
  Identifier,
  ImportDefaultSpecifier,
  ImportNamespaceSpecifier,
  ImportSpecifier,
  LabeledStatement,
  MemberExpression,
  MethodDefinition,
  ObjectPattern,
  ObjectProperty,
  ObjectTarget,
  ParenthesizedExpression,
  PatternProperty,
  Program,
  PropertyDefinition,
  RestElement,
  StaticBlock,
  TargetProperty,
  TargetRest,
  TargetWithDefault,
  ThisExpression,
  UpdateExpression,
  VariableDeclaration,
  VariableDeclarator,
}
use Rattle.es_semantic.specs.Places.{Place, first, own_scope_count, place_in, scope_count_in, scope_count_in_field}
use Rattle.es_semantic.specs.RolesOf.{reads, role_at}
use Rattle.es_semantic.specs.SymbolsOf.{Declared, find, hoist_scope, hoists, is_bound, scope_for, symbol_in}
use Rattle.es_semantic.specs.declared.place.Binding.{Binding}
use Rattle.es_semantic.specs.declared.place.Role.{Role}
use Rattle.es_semantic.specs.declared.place.Role.TheVariants.{Nothing, Binds}
use Rattle.es_semantic.proofs.CoreWalks.{InProgram, in_program_below}
use Rattle.es_semantic.proofs.SymbolPlaces.{symbol-bound}
use Rattle.es_runs.specs.Duplication.{has_no_fields}
use Rattle.es_runs.proofs.Named.{among-append, core_exports, names_below}
use Rattle.es_resolution.proofs.AllForms.{All, AllIn, AllBy, AllAmong}
use Rattle.es_resolution.proofs.Marks.{marked}
use Rattle.es_resolution.proofs.Outside.{hoist-none}
use Rattle.es_resolution.proofs.Placed.{is_last, kind_fits, Placed, PlacedIn, PlacedBy, PlacedAll}
use Rattle.es_resolution.proofs.SymbolTrees.{own_symbols, resolved_among, resolved_by, resolved_in, resolved_tree, symbol_for}
use Rattle.es_steps.proofs.BridgeLinks.{NameTied, OwnTied, Tied, TiedAll, TiedBy, TiedIn, asks, bytes_eq-self, is_part_kind}

-- ROLES

abbrev pub is_named_role : Role → Bool
is_named_role Nothing = false
is_named_role _ = true

named-if : (b : Bool) → b ≡ true → is_named_role (if b then reads else Nothing) ≡ true
named-if true e = refl
named-if false e = absurd (cc e)

pub role-named : (r : Role) (a : Bool) (k : AstType) (l : Label) (fs : Fields) (i : ℕ) → is_core_kind k ≡ true → (a ≡ true → is_named_role r ≡ true) → asks a k l i ≡ true → is_named_role (role_at r k l fs i) ≡ true
role-named r a Program l fs zero h f e = refl
role-named r a Program l fs (suc zero) h f e = refl
role-named r a Program l fs (suc (suc i)) h f e = refl
role-named r a VariableDeclaration l fs zero h f e = refl
role-named r a VariableDeclaration l fs (suc i) h f e = refl
role-named r a VariableDeclarator l fs zero h f e = f e
role-named r a VariableDeclarator l fs (suc i) h f e = refl
role-named r a ParenthesizedExpression l fs zero h f e = f e
role-named r a ParenthesizedExpression l fs (suc i) h f e = refl
role-named r a AssignmentExpression l fs zero h f e = refl
role-named r a AssignmentExpression l fs (suc i) h f e = refl
role-named r a UpdateExpression l fs zero h f e = refl
role-named r a UpdateExpression l fs (suc i) h f e = refl
role-named r a MemberExpression l fs zero h f e = refl
role-named r a MemberExpression l fs (suc zero) h f e = named-if (is_name_place MemberExpression l (suc zero)) e
role-named r a MemberExpression l fs (suc (suc i)) h f e = refl
role-named r a StaticBlock l fs i h f e = absurd (cc h)
role-named r a FunctionDeclaration l fs i h f e = absurd (cc h)
role-named r a FunctionExpression l fs i h f e = absurd (cc h)
role-named r a FunctionBody l fs i h f e = absurd (cc h)
role-named r a ArrowFunctionExpression l fs i h f e = absurd (cc h)
role-named r a ClassDeclaration l fs i h f e = absurd (cc h)
role-named r a ClassExpression l fs i h f e = absurd (cc h)
role-named r a MethodDefinition l fs i h f e = absurd (cc h)
role-named r a ForInStatement l fs i h f e = absurd (cc h)
role-named r a ForOfStatement l fs i h f e = absurd (cc h)
role-named r a CatchClause l fs i h f e = absurd (cc h)
role-named r a ImportSpecifier l fs i h f e = absurd (cc h)
role-named r a ImportDefaultSpecifier l fs i h f e = absurd (cc h)
role-named r a ImportNamespaceSpecifier l fs i h f e = absurd (cc h)
role-named r a ExportNamedDeclaration l fs i h f e = absurd (cc h)
role-named r a ExportDefaultDeclaration l fs i h f e = absurd (cc h)
role-named r a ExportSpecifier l fs i h f e = absurd (cc h)
role-named r a ObjectPattern l fs i h f e = absurd (cc h)
role-named r a PatternProperty l fs i h f e = absurd (cc h)
role-named r a ArrayPattern l fs i h f e = absurd (cc h)
role-named r a AssignmentPattern l fs i h f e = absurd (cc h)
role-named r a RestElement l fs i h f e = absurd (cc h)
role-named r a ObjectTarget l fs i h f e = absurd (cc h)
role-named r a TargetProperty l fs i h f e = absurd (cc h)
role-named r a ArrayTarget l fs i h f e = absurd (cc h)
role-named r a TargetWithDefault l fs i h f e = absurd (cc h)
role-named r a TargetRest l fs i h f e = absurd (cc h)
role-named r a k l fs i h f e = named-if (is_name_place k l i) e

pub asks-name : (a : Bool) (k : AstType) (l : Label) (i : ℕ) → asks a k l i ≡ true → is_name_place k l i ≡ true
asks-name a ParenthesizedExpression l i e = refl
asks-name a VariableDeclarator l i e = refl
asks-name a _ l i e = e

-- SYMBOLS

module _ (F : List Declared) where
  abbrev pub look : Text → Option ℕ
  look x = symbol_in F 0 x

  found-one : (x : Text) (c : Bool) (o : Option ℕ) → is_some o ≡ c → (if c then o else None) ≡ o
  found-one x true o e = refl
  found-one x false None e = refl
  found-one x false (Some s) e = absurd (cc e)

  find-look : (p : Place) (x : Text) → InProgram p → find F p.around x ≡ look x
  find-look p x h = ap (λ up. find F up x) h.around ∙ found-one x (is_bound F 0 x) (look x) (symbol-bound F 0 x)

  hoist-look : (p : Place) (x : Text) → InProgram p → hoist_scope F p x ≡ 0
  hoist-look p x h = at p.parameters h.parameters refl ∙ h.hoist
    where
      at : (q : Option ℕ) → q ≡ None → p.parameters ≡ q → hoist_scope F p x ≡ p.hoist
      at None e d = hoist-none F p x d
      at (Some s) e d = absurd (cc e)

  first-look : (p : Place) → InProgram p → first p.around ≡ 0
  first-look p h = ap first h.around

  scope-look : (p : Place) (b : Binding) (x : Text) → InProgram p → scope_for F p b x ≡ 0
  scope-look p b x h = at (hoists b)
    where
      at : (c : Bool) → (if c then hoist_scope F p x else first p.around) ≡ 0
      at true = hoist-look p x h
      at false = first-look p h

  role-look : (p : Place) (r : Role) (x : Text) → InProgram p → is_named_role r ≡ true → symbol_for F p r x ≡ look x
  role-look p Nothing x h e = absurd (cc e)
  role-look p (Binds b) x h e = ap (λ s. symbol_in F s x) (scope-look p b x h)
  role-look p _ x h e = find-look p x h

-- TREES

abbrev pub starts_with_node : Fields → Bool
starts_with_node (one t then fs) = true
starts_with_node _ = false

abbrev pub has_two_nodes : Fields → Bool
has_two_nodes (one t then fs) = starts_with_node fs
has_two_nodes _ = false

abbrev pub leaf_fits : AstType → Fields → Bool
leaf_fits Identifier fs = has_no_fields fs
leaf_fits ThisExpression fs = has_no_fields fs
leaf_fits ParenthesizedExpression fs = starts_with_node fs
leaf_fits VariableDeclarator fs = starts_with_node fs
leaf_fits MemberExpression fs = has_two_nodes fs
leaf_fits _ fs = true

abbrev pub Leaf : AstType → Label → Fields → Type 0
Leaf k l fs = leaf_fits k fs ≡ true

absurd-second : (l : Label) (k : AstType) (t : Tree) (fs : Fields) → match_option (elements_of (child_entries MemberExpression)) (fields_form MemberExpression l (child_entries MemberExpression) (one t then fs)) (λ p. elements_form p.sort p.last (one t then fs)) ≡ true → starts_with_node fs ≡ false → ⊥
absurd-second l k t (one u then fs) h e = absurd (cc e)
absurd-second l k t done h e = absurd (let no : false ≡ true = (and_parts _ _ h).1 in cc no)
absurd-second l k t (missing then fs) h e = absurd (let no : false ≡ true = (and_parts _ _ h).1 in cc no)
absurd-second l k t (many ts then fs) h e = absurd (let no : false ≡ true = (and_parts _ _ h).1 in cc no)
absurd-second l k t (statements ts then fs) h e = absurd (let no : false ≡ true = (and_parts _ _ h).1 in cc no)

pub leaf-form : (k : AstType) (l : Label) (fs : Fields) → match_option (elements_of (child_entries k)) (fields_form k l (child_entries k) fs) (λ p. elements_form p.sort p.last fs) ≡ true → leaf_fits k fs ≡ true
leaf-form Identifier l done h = refl
leaf-form Identifier l (f then fs) h = absurd (cc h)
leaf-form ThisExpression l done h = refl
leaf-form ThisExpression l (f then fs) h = absurd (cc h)
leaf-form ParenthesizedExpression l (one t then fs) h = refl
leaf-form ParenthesizedExpression l done h = absurd (cc h)
leaf-form ParenthesizedExpression l (missing then fs) h = absurd (cc h)
leaf-form ParenthesizedExpression l (many ts then fs) h = absurd (cc h)
leaf-form ParenthesizedExpression l (statements ts then fs) h = absurd (cc h)
leaf-form VariableDeclarator l (one t then fs) h = refl
leaf-form VariableDeclarator l done h = absurd (cc h)
leaf-form VariableDeclarator l (missing then fs) h = absurd (cc h)
leaf-form VariableDeclarator l (many ts then fs) h = absurd (cc h)
leaf-form VariableDeclarator l (statements ts then fs) h = absurd (cc h)
leaf-form MemberExpression l (one t then (one u then fs)) h = refl
leaf-form MemberExpression l (one t then done) h = absurd (absurd-second l MemberExpression t done h refl)
leaf-form MemberExpression l (one t then (missing then fs)) h = absurd (absurd-second l MemberExpression t (missing then fs) h refl)
leaf-form MemberExpression l (one t then (many ts then fs)) h = absurd (absurd-second l MemberExpression t (many ts then fs) h refl)
leaf-form MemberExpression l (one t then (statements ts then fs)) h = absurd (absurd-second l MemberExpression t (statements ts then fs) h refl)
leaf-form MemberExpression l done h = absurd (cc h)
leaf-form MemberExpression l (missing then fs) h = absurd (cc h)
leaf-form MemberExpression l (many ts then fs) h = absurd (cc h)
leaf-form MemberExpression l (statements ts then fs) h = absurd (cc h)
leaf-form _ l fs h = refl

-- lists stand only where identifiers are names
abbrev pub ListOk : Bool → Field → Type 0
ListOk b (many ts) = b ≡ true
ListOk b (statements ts) = b ≡ true
ListOk b _ = Unit {0}

abbrev pub ListsOk : (ℕ → Bool) → Fields → Type 0
ListsOk c done = Unit {0}
ListsOk c (w then fs) = ListOk (c zero) w × ListsOk (λ i. c (suc i)) fs

list-named : (b : Bool) (w : Field) → b ≡ true → ListOk b w
list-named b missing h = tt
list-named b (one t) h = tt
list-named b (many ts) h = h
list-named b (statements ts) h = h

lists-named : (c : ℕ → Bool) (fs : Fields) → ((i : ℕ) → c i ≡ true) → ListsOk c fs
lists-named c done h = tt
lists-named c (w then fs) h = (list-named (c zero) w (h zero), lists-named (λ i. c (suc i)) fs (λ i. h (suc i)))

lists-later : (c : ℕ → Bool) (fs : Fields) → starts_with_node fs ≡ true → ((i : ℕ) → c (suc i) ≡ true) → ListsOk c fs
lists-later c (one t then fs) h e = (tt, lists-named (λ i. c (suc i)) fs e)
lists-later c done h e = absurd (cc h)
lists-later c (missing then fs) h e = absurd (cc h)
lists-later c (many ts then fs) h e = absurd (cc h)
lists-later c (statements ts then fs) h e = absurd (cc h)

lists-member : (c : ℕ → Bool) (fs : Fields) → has_two_nodes fs ≡ true → ((i : ℕ) → c (suc (suc i)) ≡ true) → ListsOk c fs
lists-member c (one t then fs) h e = (tt, lists-later (λ i. c (suc i)) fs h e)
lists-member c done h e = absurd (cc h)
lists-member c (missing then fs) h e = absurd (cc h)
lists-member c (many ts then fs) h e = absurd (cc h)
lists-member c (statements ts then fs) h e = absurd (cc h)

pub lists-ok : (a : Bool) (k : AstType) (l : Label) (fs : Fields) → is_core_kind k ≡ true → leaf_fits k fs ≡ true → ListsOk (asks a k l) fs
lists-ok a ParenthesizedExpression l fs h e = lists-later (asks a ParenthesizedExpression l) fs e (λ i. refl)
lists-ok a VariableDeclarator l fs h e = lists-later (asks a VariableDeclarator l) fs e (λ i. refl)
lists-ok a MemberExpression l fs h e = lists-member (asks a MemberExpression l) fs e (λ i. refl)
lists-ok a MethodDefinition l fs h e = absurd (cc h)
lists-ok a PropertyDefinition l fs h e = absurd (cc h)
lists-ok a ObjectProperty l fs h e = absurd (cc h)
lists-ok a PatternProperty l fs h e = absurd (cc h)
lists-ok a TargetProperty l fs h e = absurd (cc h)
lists-ok a BreakStatement l fs h e = absurd (cc h)
lists-ok a ContinueStatement l fs h e = absurd (cc h)
lists-ok a LabeledStatement l fs h e = absurd (cc h)
lists-ok a ImportSpecifier l fs h e = absurd (cc h)
lists-ok a ExportSpecifier l fs h e = absurd (cc h)
lists-ok a ExportAllDeclaration l fs h e = absurd (cc h)
lists-ok a k l fs h e = lists-named (asks a k l) fs (λ i. refl)

core-of : (k : AstType) (l : Label) (fs : Fields) → is_core_node k l fs ≡ true → is_core_kind k ≡ true
core-of VariableDeclaration l fs h = refl
core-of _ l fs h = h

part-of : (above : AstType) (last : Bool) (k : AstType) → kind_fits above last k ≡ true → is_core_kind k ≡ true → is_part_kind k ≡ true
part-of above last Program h e = absurd (cc h)
part-of above last _ h e = e

or-right : (a b : Bool) → b ≡ true → (a || b) ≡ true
or-right true b h = refl
or-right false b h = h

or-left : (a b : Bool) → a ≡ true → (a || b) ≡ true
or-left a b h = rw h

among-first : (xs ys : List Text) (x : Text) → is_among xs x ≡ true → is_among (xs ++ ys) x ≡ true
among-first xs ys x h = among-append xs ys x ∙ or-left (is_among xs x) (is_among ys x) h

among-second : (xs ys : List Text) (x : Text) → is_among ys x ≡ true → is_among (xs ++ ys) x ≡ true
among-second xs ys x h = among-append xs ys x ∙ or-right (is_among xs x) (is_among ys x) h

asks-marked : (a : Bool) (k : AstType) (l : Label) (m : List (Option ℕ)) (i : ℕ) → asks a k l i ≡ asks a k (marked l m) i
asks-marked a Program l m i = refl
asks-marked a _ l m i = refl

module _ (F : List Declared) (used : Text → Bool) where
  abbrev pub Used : List Text → Type 0
  Used names = (x : Text) → is_among names x ≡ true → used x ≡ true

  used-first : (xs ys : List Text) → Used (xs ++ ys) → Used xs
  used-first xs ys h x e = h x (among-first xs ys x e)

  used-second : (xs ys : List Text) → Used (xs ++ ys) → Used ys
  used-second xs ys h x e = h x (among-second xs ys x e)

  name-source : (a c : Bool) (p : Place) (n : ℕ) (l : Label) (fs : Fields) → (a ≡ true → is_named_role p.role ≡ true) → (a ≡ true → c ≡ true) → InProgram p → Used (own_name c Identifier l) → NameTied used (look F) a (marked l (own_symbols F p n Identifier l fs))
  name-source true true p n l fs f e h u = (u (first_text l.texts) (or-left (bytes_eq (first_text l.texts) (first_text l.texts)) false (bytes_eq-self (first_text l.texts))), role-look F p p.role (first_text l.texts) h (f refl))
  name-source true false p n l fs f e h u = absurd (let no : false ≡ true = e refl in cc no)
  name-source false c p n l fs f e h u = tt

  no-fields : (ps : ℕ → Place) (n : ℕ) (fs : Fields) → has_no_fields (resolved_in F ps n fs) ≡ has_no_fields fs
  no-fields ps n done = refl
  no-fields ps n (f then fs) = refl

  own-source : (a c : Bool) (p : Place) (n m : ℕ) (ps : ℕ → Place) (k : AstType) (l : Label) (fs : Fields) → (a ≡ true → is_named_role p.role ≡ true) → (a ≡ true → c ≡ true) → InProgram p → leaf_fits k fs ≡ true → Used (own_name c k l) → OwnTied used (look F) a k (marked l (own_symbols F p n k l fs)) (resolved_in F ps m fs)
  own-source a c p n m ps Identifier l fs f e h leaf u = (no-fields ps m fs ∙ leaf, name-source a c p n l fs f e h u)
  own-source a c p n m ps ThisExpression l fs f e h leaf u = no-fields ps m fs ∙ leaf
  own-source a c p n m ps _ l fs f e h leaf u = tt

  mutual
    source-tree : (a c : Bool) (above : AstType) (last : Bool) (p : Place) (n : ℕ) (t : Tree) → (a ≡ true → is_named_role p.role ≡ true) → (a ≡ true → c ≡ true) → InProgram p → all_nodes is_core_node t ≡ true → Placed above last t → All Leaf t → Used (names_if c t) → Tied used (look F) a (resolved_tree F p n t)
    source-tree a c above last p n (node k l fs) f e h core placed leaf u =
        let both = and_parts (is_core_node k l fs) (all_in_fields is_core_node fs) core in
        let kind = core-of k l fs both.0 in
        let names : Used (names_in_fields (is_name_place k l) fs) = subst Used (names_below k l fs (is_reexport k fs) (core_exports k l fs fs both.0)) (used-second (own_name c k l) (if is_reexport k fs then [] else names_in_fields (is_name_place k l) fs) u) in (
          part-of above last k placed.0 kind,
          own-source a c p n (n + own_scope_count k fs) (place_in p n k l fs) k l fs f e h leaf.0 (used-first (own_name c k l) (if is_reexport k fs then [] else names_in_fields (is_name_place k l) fs) u),
          subst (λ (b : ℕ → Bool). TiedIn used (look F) b (resolved_in F (place_in p n k l fs) (n + own_scope_count k fs) fs)) (λ j i. asks-marked a k l (own_symbols F p n k l fs) i j)
              (source-in (asks a k l) (is_name_place k l) k (place_in p n k l fs) (n + own_scope_count k fs) fs (λ i. role-named p.role a k l fs i kind f) (λ i. asks-name a k l i) (in_program_below p n k l fs kind h) both.1 placed.2 leaf.1 (lists-ok a k l fs kind leaf.0) names),
        )

    pub source-in : (a c : ℕ → Bool) (k : AstType) (ps : ℕ → Place) (n : ℕ) (fs : Fields) → ((i : ℕ) → a i ≡ true → is_named_role (ps i).role ≡ true) → ((i : ℕ) → a i ≡ true → c i ≡ true) → ((i : ℕ) → InProgram (ps i)) → all_in_fields is_core_node fs ≡ true → PlacedIn k fs → AllIn Leaf fs → ListsOk a fs → Used (names_in_fields c fs) → TiedIn used (look F) a (resolved_in F ps n fs)
    source-in a c k ps n done f e h core placed leaf lists u = tt
    source-in a c k ps n (w then fs) f e h core placed leaf lists u =
        let both = and_parts (all_in_field is_core_node w) (all_in_fields is_core_node fs) core in (
          source-by (a zero) (c zero) k (is_last fs) (ps zero) n w (f zero) (e zero) (h zero) both.0 placed.0 leaf.0 lists.0 (used-first (names_in_field (c zero) w) (names_in_fields (λ i. c (suc i)) fs) u),
          source-in (λ i. a (suc i)) (λ i. c (suc i)) k (λ i. ps (suc i)) (n + scope_count_in_field w) fs (λ i. f (suc i)) (λ i. e (suc i)) (λ i. h (suc i)) both.1 placed.1 leaf.1 lists.1 (used-second (names_in_field (c zero) w) (names_in_fields (λ i. c (suc i)) fs) u),
        )

    source-by : (a c : Bool) (k : AstType) (last : Bool) (p : Place) (n : ℕ) (w : Field) → (a ≡ true → is_named_role p.role ≡ true) → (a ≡ true → c ≡ true) → InProgram p → all_in_field is_core_node w ≡ true → PlacedBy k last w → AllBy Leaf w → ListOk a w → Used (names_in_field c w) → TiedBy used (look F) a (resolved_by F p n w)
    source-by a c k last p n missing f e h core placed leaf lists u = tt
    source-by a c k last p n (one t) f e h core placed leaf lists u = source-tree a c k last p n t f e h core placed leaf u
    source-by a c k last p n (many ts) f e h core placed leaf lists u = source-all k p n ts (f lists) h core placed leaf u
    source-by a c k last p n (statements ts) f e h core placed leaf lists u = source-all k p n ts (f lists) h core placed leaf u

    source-all : (k : AstType) (p : Place) (n : ℕ) (ts : Trees) → is_named_role p.role ≡ true → InProgram p → all_in_trees is_core_node ts ≡ true → PlacedAll k ts → AllAmong Leaf ts → Used (names_in_trees ts) → TiedAll used (look F) (resolved_among F p n ts)
    source-all k p n empty f h core placed leaf u = tt
    source-all k p n (t before ts) f h core placed leaf u =
        let both = and_parts (all_nodes is_core_node t) (all_in_trees is_core_node ts) core in (
          source-tree true true k false p n t (λ e. f) (λ e. refl) h both.0 placed.0 leaf.0 (used-first (names_if true t) (names_in_trees ts) u),
          source-all k p (n + scope_count_in t) ts f h both.1 placed.1 leaf.1 (used-second (names_if true t) (names_in_trees ts) u),
        )
