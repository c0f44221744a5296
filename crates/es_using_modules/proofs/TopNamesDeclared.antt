-- What a declaration declares, as far as it is looked at: the names that it binds, in their order, and nothing else.
use Rattle.std.proofs.Common.{◌≡◌, ℕ, suc, refl, sym, subst, ◌∙◌, List, [], ◌∷◌, ◌++◌, append-nil, filter, map}
use Rattle.std.specs.Prelude.{Bool, true, false, codes, if◌then◌else◌}
use Rattle.std.proofs.lemmas.List.{map-append}
use Rattle.std.proofs.lemmas.List.Elements.{filter-append}
use Rattle.es_tree.specs.Ancestors.{Ancestor}
use Rattle.es_tree.specs.Attributes.{child_entries}
use Rattle.es_tree.specs.BoundNames.{bound_identifiers, bound_in_field, bound_in_fields, bound_in_trees}
use Rattle.es_tree.specs.DeclaredNames.{Name, bound_names, declaration_names, exported_names, exports_of, lexical_names}
use Rattle.es_tree.specs.HasForm.{field_form, fields_form, has_form, trees_form}
use Rattle.es_tree.specs.Names.{first_text}
use Rattle.es_tree.specs.Tree.{Tree, node, Label, Fields, done, ◌then◌, Field, missing, one, many, statements, Trees, empty, ◌before◌, kind_of, fields_of}
use Rattle.es_tree.specs.Words.{Text}
use Rattle.es_tree.specs.declared.ast_type.AstType.{AstType}
use Rattle.es_tree.specs.declared.ast_type.AstType.TheVariants.{ArrayPattern, AssignmentPattern, CallExpression, ClassDeclaration, ClassExpression, Identifier, ObjectPattern, PatternProperty, RestElement, VariableDeclaration, VariableDeclarator}
use Rattle.es_tree.specs.declared.table.Content.TheVariants.{Child as c-Child}
use Rattle.es_tree.specs.declared.table.Often.TheVariants.{Optional, Required}
use Rattle.es_tree.specs.declared.table.Sort.{Sort}
use Rattle.es_tree.specs.declared.table.Sort.TheVariants.{Binding as s-Binding, Expression as s-Expression, VariableDeclarator as s-VariableDeclarator}
use Rattle.es_tree.proofs.NodeForm.{node_form}
use Rattle.es_semantic.proofs.FormEdges.{Edges, EdgesAll, EdgesBy, EdgesIn, edges-inside, is_last}
use Rattle.es_resolution.specs.Declarations.{Bound}
use Rattle.es_steps.specs.Nodes.{identifier, made, member_node}
use Rattle.es_steps.specs.UsingBlocks.{method_call}
use Rattle.es_steps.proofs.FormLists.{first-formed}
use Rattle.es_steps.proofs.FormParts.{and-left, and-right}
use Rattle.es_valid_names.proofs.Claims.{above, claims, claims_all, claims_by, claims_in, is_owned, push}
use Rattle.es_valid_names.proofs.ClearPending.{expression-mute}
use Rattle.es_valid_names.proofs.Mute.{Free, edges, free-exported, free-filter, stands}
use Rattle.es_valid_names.proofs.StandsFit.{one-zero, two-one}
use Rattle.es_valid_rests.proofs.RestNamesBinding.{binds_names, bound-table, bound_inside, has_part, part-binds, silent-tree}
use Rattle.es_valid_rests.proofs.RestNamesAround.{Fit, OwnedPart, claims-by-fit, plain-private}
use Rattle.es_valid_rests.proofs.RestNamesAround.Parent.{same_parent}
use Rattle.es_valid_rests.proofs.RestNamesParts.{part-self, same-parts}
use Rattle.es_valid_rests.proofs.RestNamesParts.Part.{none}
use Rattle.es_export_splits.specs.Splits.{names_of_declarator, names_of_declarators, text_of}
use Rattle.es_using_modules.proofs.TopMoves.{AllBecome, Becomes}
use Rattle.es_using_modules.proofs.TopMoves.Becomes.{as_is, passed}
use Rattle.es_using_modules.proofs.TopMoves.AllBecome.{ended, more}

-- LISTS of one name each

abbrev pub lists : (Text → Name) → List Tree → List (List Name)
lists n xs = map (λ x. n (text_of x) ∷ []) xs

-- where an identifier declares this name
pub record Binds (n : Text → Name) (up : List Ancestor) : Type 0 where
  pub bound : (x : Text) → filter is_owned (bound_names up x) ≡ n x ∷ []

-- an identifier has no parts
bare-fields : (up : List Ancestor) (l : Label) (all : Fields) (i : ℕ) (fs : Fields) → EdgesIn bound_inside Identifier i fs → claims_in is_owned up Identifier l all 0 i fs ≡ []
bare-fields up l all i done b = refl
bare-fields up l all i (missing then fs) b = bare-fields up l all (suc i) fs b.1
bare-fields up l all i (one (node j m gs) then fs) b = absurd (let no : false ≡ true = b.0.0 in cc no)
bare-fields up l all i (many empty then fs) b = bare-fields up l all (suc i) fs b.1
bare-fields up l all i (many (node j m gs before ts) then fs) b = absurd (let no : false ≡ true = b.0.0.0 in cc no)
bare-fields up l all i (statements empty then fs) b = bare-fields up l all (suc i) fs b.1
bare-fields up l all i (statements (node j m gs before ts) then fs) b = absurd (let no : false ≡ true = b.0.0.0 in cc no)

-- PARTS of a pattern that bind no names

abbrev Silent : List Ancestor → AstType → Label → Fields → ℕ → Type 0
Silent up k l all i = (last : Bool) (t : Tree) → Edges stands k i last t → Edges bound_inside k i last t → claims is_owned (above k l all i 0 ∷ up) t ≡ []

module _ (up : List Ancestor) (k : AstType) (l : Label) (all : Fields) where
  silent-trees : (i : ℕ) → Silent up k l all i → (ts : Trees) → EdgesAll stands k i ts → EdgesAll bound_inside k i ts → claims_all is_owned (above k l all i 0 ∷ up) ts ≡ []
  silent-trees i h empty s b = refl
  silent-trees i h (t before ts) s b = λ j. h false t s.0 b.0 j ++ silent-trees i h ts s.1 b.1 j

  silent-field : (i : ℕ) → Silent up k l all i → (last : Bool) (f : Field) → EdgesBy stands k i last f → EdgesBy bound_inside k i last f → claims_by is_owned (above k l all i 0 ∷ up) f ≡ []
  silent-field i h last missing s b = refl
  silent-field i h last (one t) s b = h last t s b
  silent-field i h last (many ts) s b = silent-trees i h ts s b
  silent-field i h last (statements ts) s b = silent-trees i h ts s b

  silent-from : (i : ℕ) → ((j : ℕ) → Silent up k l all (suc j)) → (fs : Fields) → EdgesIn stands k (suc i) fs → EdgesIn bound_inside k (suc i) fs → claims_in is_owned up k l all 0 (suc i) fs ≡ []
  silent-from i h done s b = refl
  silent-from i h (f then fs) s b = λ j. silent-field (suc i) (h i) (is_last fs) f s.0 b.0 j ++ silent-from (suc i) h fs s.1 b.1 j

  silent-behind : (i : ℕ) → ((j : ℕ) → Silent up k l all (suc (suc j))) → (fs : Fields) → EdgesIn stands k (suc (suc i)) fs → EdgesIn bound_inside k (suc (suc i)) fs → claims_in is_owned up k l all 0 (suc (suc i)) fs ≡ []
  silent-behind i h done s b = refl
  silent-behind i h (f then fs) s b = λ j. silent-field (suc (suc i)) (h i) (is_last fs) f s.0 b.0 j ++ silent-behind (suc i) h fs s.1 b.1 j

-- PATTERNS

module _ (n : Text → Name) where
  own-name : (up : List Ancestor) → Binds n up → (x : Text) → filter is_owned (bound_names up x ++ exported_names up x) ≡ n x ∷ []
  own-name up b x = filter-append is_owned (bound_names up x) (exported_names up x) ∙ (λ i. b.bound x i ++ free-filter (exported_names up x) (free-exported up x) i)

  mutual
    pub names-tree : (up : List Ancestor) → Binds n up → (t : Tree) → binds_names (kind_of t) ≡ true → EdgesIn stands (kind_of t) 0 (fields_of t) → EdgesIn bound_inside (kind_of t) 0 (fields_of t) → claims is_owned up t ≡ lists n (bound_identifiers t)
    names-tree up b (node Identifier l fs) q s p = λ i. push (own-name up b (first_text l.texts) i) (bare-fields up l fs 0 fs p i)
    names-tree up b (node ObjectPattern l done) q s p = refl
    names-tree up b (node ObjectPattern l (f then fs)) q s p =
        let all : Fields = f then fs in
        (λ i. names-field (above ObjectPattern l all 0 0 ∷ up) (record { bound = b.bound }) ObjectPattern 0 refl (is_last fs) f s.0 p.0 i ++ silent-from up ObjectPattern l all 0 (λ j. silent-tree up ObjectPattern l all (suc j) refl (one-zero j)) fs s.1 p.1 i) ∙ append-nil (lists n (bound_in_field f))
    names-tree up b (node AssignmentPattern l done) q s p = refl
    names-tree up b (node AssignmentPattern l (f then fs)) q s p =
        let all : Fields = f then fs in
        (λ i. names-field (above AssignmentPattern l all 0 0 ∷ up) (record { bound = b.bound }) AssignmentPattern 0 refl (is_last fs) f s.0 p.0 i ++ silent-from up AssignmentPattern l all 0 (λ j. silent-tree up AssignmentPattern l all (suc j) refl (one-zero j)) fs s.1 p.1 i) ∙ append-nil (lists n (bound_in_field f))
    names-tree up b (node RestElement l done) q s p = refl
    names-tree up b (node RestElement l (f then fs)) q s p =
        let all : Fields = f then fs in
        (λ i. names-field (above RestElement l all 0 0 ∷ up) (record { bound = b.bound }) RestElement 0 refl (is_last fs) f s.0 p.0 i ++ silent-from up RestElement l all 0 (λ j. silent-tree up RestElement l all (suc j) refl (one-zero j)) fs s.1 p.1 i) ∙ append-nil (lists n (bound_in_field f))
    names-tree up b (node PatternProperty l done) q s p = refl
    names-tree up b (node PatternProperty l (f then done)) q s p = λ i. silent-field up PatternProperty l (f then done) 0 (silent-tree up PatternProperty l (f then done) 0 refl refl) true f s.0 p.0 i ++ []
    names-tree up b (node PatternProperty l (f then (g then fs))) q s p =
        let all : Fields = f then (g then fs) in
        (λ i. silent-field up PatternProperty l all 0 (silent-tree up PatternProperty l all 0 refl refl) false f s.0 p.0 i ++ (names-field (above PatternProperty l all 1 0 ∷ up) (record { bound = b.bound }) PatternProperty 1 refl (is_last fs) g s.1.0 p.1.0 i ++ silent-behind up PatternProperty l all 0 (λ j. silent-tree up PatternProperty l all (suc (suc j)) refl (two-one j)) fs s.1.1 p.1.1 i))
        ∙ append-nil (lists n (bound_in_field g))
    names-tree up b (node ArrayPattern l fs) q s p = names-fields up b l fs 0 fs s p
    names-tree up b (node _ l fs) q s p = absurd (let no : false ≡ true = q in cc no)

    -- elements
    names-fields : (up : List Ancestor) → Binds n up → (l : Label) (all : Fields) (i : ℕ) (fs : Fields) → EdgesIn stands ArrayPattern i fs → EdgesIn bound_inside ArrayPattern i fs → claims_in is_owned up ArrayPattern l all 0 i fs ≡ lists n (bound_in_fields fs)
    names-fields up b l all i done s p = refl
    names-fields up b l all i (f then fs) s p =
        (λ j. names-field (above ArrayPattern l all i 0 ∷ up) (record { bound = b.bound }) ArrayPattern i refl (is_last fs) f s.0 p.0 j ++ names-fields up b l all (suc i) fs s.1 p.1 j)
        ∙ sym (map-append (λ x. n (text_of x) ∷ []) (bound_in_field f) (bound_in_fields fs))

    names-field : (up : List Ancestor) → Binds n up → (k : AstType) (i : ℕ) → has_part k i ≡ true → (last : Bool) (f : Field) → EdgesBy stands k i last f → EdgesBy bound_inside k i last f → claims_by is_owned up f ≡ lists n (bound_in_field f)
    names-field up b k i d last missing s p = refl
    names-field up b k i d last (one (node j m gs)) s p = names-tree up b (node j m gs) (part-binds k i d last j p.0) s.1 p.1
    names-field up b k i d last (many ts) s p = names-trees up b k i d ts s p
    names-field up b k i d last (statements ts) s p = names-trees up b k i d ts s p

    names-trees : (up : List Ancestor) → Binds n up → (k : AstType) (i : ℕ) → has_part k i ≡ true → (ts : Trees) → EdgesAll stands k i ts → EdgesAll bound_inside k i ts → claims_all is_owned up ts ≡ lists n (bound_in_trees ts)
    names-trees up b k i d empty s p = refl
    names-trees up b k i d (node j m gs before ts) s p =
        (λ x. names-tree up b (node j m gs) (part-binds k i d false j p.0.0) s.0.1 p.0.1 x ++ names-trees up b k i d ts s.1 p.1 x)
        ∙ sym (map-append (λ x. n (text_of x) ∷ []) (bound_identifiers (node j m gs)) (bound_in_trees ts))

binding-kind : (t : Tree) → has_form s-Binding t ≡ true → binds_names (kind_of t) ≡ true
binding-kind (node Identifier l fs) f = refl
binding-kind (node ObjectPattern l fs) f = refl
binding-kind (node ArrayPattern l fs) f = refl
binding-kind (node k l fs) f = absurd (let no : false ≡ true = (node_form s-Binding k l fs f).sort in cc no)

pub pattern-names : (n : Text → Name) (up : List Ancestor) → Binds n up → (t : Tree) → has_form s-Binding t ≡ true → claims is_owned up t ≡ lists n (bound_identifiers t)
pattern-names n up b (node k l fs) f = names-tree n up b (node k l fs) (binding-kind (node k l fs) f) (edges s-Binding k l fs f) (edges-inside bound_inside bound-table s-Binding k l fs f)

-- DECLARATIONS BY A WORD

module _ (c : Bound) (n : Text → Name) (vp : List Ancestor) (declares : (x : Text) → filter is_owned (declaration_names vp x) ≡ n x ∷ []) where
  in-declarator : (l : Label) (fs : Fields) → Binds n (above VariableDeclarator l fs 0 0 ∷ vp)
  in-declarator l fs = record { bound = declares }

  value-none : (l : Label) (fs : Fields) (e : Tree) → has_form s-Expression e ≡ true → claims is_owned (above VariableDeclarator l fs 1 0 ∷ vp) e ≡ []
  value-none l fs e f = expression-mute (above VariableDeclarator l fs 1 0 ∷ vp) e f (λ x. tt)

  passed-none : (l : Label) (fs : Fields) (e : Tree) → has_form s-Expression e ≡ true → claims is_owned (above VariableDeclarator l fs 1 0 ∷ vp) (method_call c (codes "u") (e ∷ [])) ≡ []
  passed-none l fs e f = λ i. (expression-mute (above CallExpression (made [] (false ∷ [])) (one (member_node (identifier c) (codes "u")) then many (e before empty) then done) 1 0 ∷ (above VariableDeclarator l fs 1 0 ∷ vp)) e f (λ x. tt) i ++ []) ++ []

  with-value : (l : Label) (p v e : Tree) → has_form s-Binding p ≡ true → claims is_owned (above VariableDeclarator l (one p then one e then done) 1 0 ∷ vp) e ≡ [] → claims is_owned vp (node VariableDeclarator l (one p then one e then done)) ≡ lists n (bound_identifiers p)
  with-value l p v e f h = (λ i. pattern-names n (above VariableDeclarator l (one p then one e then done) 0 0 ∷ vp) (in-declarator l (one p then one e then done)) p f i ++ (h i ++ [])) ∙ append-nil (lists n (bound_identifiers p))

  as-before : (l : Label) (fs : Fields) → fields_form VariableDeclarator l (child_entries VariableDeclarator) fs ≡ true → claims is_owned vp (node VariableDeclarator l fs) ≡ lists n (names_of_declarator (node VariableDeclarator l fs))
  as-before l (one p then missing then done) f = (λ i. pattern-names n (above VariableDeclarator l (one p then missing then done) 0 0 ∷ vp) (in-declarator l (one p then missing then done)) p (and-left (has_form s-Binding p) true f) i ++ []) ∙ append-nil (lists n (bound_identifiers p))
  as-before l (one p then one v then done) f = with-value l p v v (and-left (has_form s-Binding p) _ f) (value-none l (one p then one v then done) v (and-left (has_form s-Expression v) true (and-right (has_form s-Binding p) _ f)))
  as-before l done f = absurd (let no : false ≡ true = f in cc no)
  as-before l (g then done) f = absurd (let no : false ≡ true = and-right (field_form VariableDeclarator l (c-Child s-Binding Required) g) false f in cc no)
  as-before l (g then i then j then hs) f = absurd (let no : false ≡ true = and-right (field_form VariableDeclarator l (c-Child s-Expression Optional) i) false (and-right (field_form VariableDeclarator l (c-Child s-Binding Required) g) _ f) in cc no)
  as-before l (g then many ts then done) f = absurd (let no : false ≡ true = and-right (field_form VariableDeclarator l (c-Child s-Binding Required) g) false f in cc no)
  as-before l (g then statements ts then done) f = absurd (let no : false ≡ true = and-right (field_form VariableDeclarator l (c-Child s-Binding Required) g) false f in cc no)
  as-before l (g then i then done) f = absurd (let no : false ≡ true = f in cc no)

  declarator-names : (d e : Tree) → Becomes c d e → has_form s-VariableDeclarator d ≡ true → claims is_owned vp e ≡ lists n (names_of_declarator d)
  declarator-names d e (as_is (node VariableDeclarator l fs)) f = as-before l fs (node_form s-VariableDeclarator VariableDeclarator l fs f).children
  declarator-names d e (as_is (node k l fs)) f = absurd (let no : false ≡ true = (node_form s-VariableDeclarator k l fs f).sort in cc no)
  declarator-names d e (passed l p v) f =
      let m = (node_form s-VariableDeclarator VariableDeclarator l (one p then one v then done) f).children in
      let call = method_call c (codes "u") (v ∷ []) in
      with-value l p v call (and-left (has_form s-Binding p) _ m) (passed-none l (one p then one call then done) v (and-left (has_form s-Expression v) true (and-right (has_form s-Binding p) _ m)))

  declarators-names : (ds es : Trees) → AllBecome c ds es → trees_form s-VariableDeclarator s-VariableDeclarator ds ≡ true → claims_all is_owned vp es ≡ lists n (names_of_declarators ds)
  declarators-names ds es ended f = refl
  declarators-names ds es (more {d = d} {e = e} {ds = ds'} {es = es'} b r) f =
      let parts = first-formed s-VariableDeclarator d ds' f in
      (λ i. declarator-names d e b parts.0 i ++ declarators-names ds' es' r parts.1 i) ∙ sym (map-append (λ x. n (text_of x) ∷ []) (names_of_declarator d) (names_of_declarators ds'))

declarators-formed : (s : Sort) (l : Label) (ds : Trees) → has_form s (node VariableDeclaration l (many ds then done)) ≡ true → trees_form s-VariableDeclarator s-VariableDeclarator ds ≡ true
declarators-formed s l empty f = refl
declarators-formed s l (d before ds) f = and-left (trees_form s-VariableDeclarator s-VariableDeclarator (d before ds)) true (node_form s VariableDeclaration l (many (d before ds) then done) f).children

-- a declaration, by its own word or by another
pub variables-names : (c : Bound) (n : Text → Name) (up : List Ancestor) (k m : Label) (ds es : Trees) (s : Sort) → ((x : Text) → filter is_owned (declaration_names (above VariableDeclaration m (many es then done) 0 0 ∷ up) x) ≡ n x ∷ []) → AllBecome c ds es → has_form s (node VariableDeclaration k (many ds then done)) ≡ true → claims is_owned up (node VariableDeclaration m (many es then done)) ≡ lists n (names_of_declarators ds)
variables-names c n up k m ds es s declares r f = (λ i. declarators-names c n (above VariableDeclaration m (many es then done) 0 0 ∷ up) declares ds es r (declarators-formed s k ds f) i ++ []) ∙ append-nil (lists n (names_of_declarators ds))

-- CLASSES: what is in one is none of the names around it

module _ (l : Label) (g h : Field) (fs : Fields) (m : ℕ) (up : List Ancestor) where
  class-fit : (i : ℕ) → Fit false (above ClassExpression l (h then fs) (suc i) m ∷ up) (above ClassDeclaration l (g then fs) (suc i) m ∷ up)
  class-fit i = record {
    module_around = refl;
    top = refl;
    clause = refl;
    hoisted = part-self _;
    first = part-self _;
    bound = λ x. subst (λ (b : Bool). OwnedPart false [] (if b then lexical_names up x ++ exports_of up x else [])) (sym (one-zero i)) none;
    declares = λ x. none;
    private = λ x. plain-private (above ClassExpression l (h then fs) (suc i) m ∷ up) (above ClassDeclaration l (g then fs) (suc i) m ∷ up) refl refl x;
  }

  pub class-same : (i : ℕ) (gs : Fields) → claims_in is_owned up ClassDeclaration l (g then fs) m (suc i) gs ≡ claims_in is_owned up ClassExpression l (h then fs) m (suc i) gs
  class-same i done = refl
  class-same i (f then gs) = λ j. same-parts (claims-by-fit (above ClassExpression l (h then fs) (suc i) m ∷ up) (above ClassDeclaration l (g then fs) (suc i) m ∷ up) (class-fit i) (same_parent refl) f) j ++ class-same (suc i) gs j

append-second : (gs hs : List (List Name)) → gs ++ hs ≡ [] → hs ≡ []
append-second [] hs e = e
append-second (g ∷ gs) hs e = absurd (let no = e in cc no)

module _ (l : Label) (g h : Field) (fs : Fields) (up : List Ancestor) (bound : (x : Text) → bound_names up x ≡ []) (f : has_form s-Expression (node ClassExpression l (h then fs)) ≡ true) where
  expression-none : claims is_owned up (node ClassExpression l (h then fs)) ≡ []
  expression-none = expression-mute up (node ClassExpression l (h then fs)) f (λ x. subst (λ (ns : List Name). Free ns) (sym (bound x)) tt)

  -- of a class but its name
  pub class-none : claims_in is_owned up ClassDeclaration l (g then fs) 0 1 fs ≡ []
  class-none = class-same l g h fs 0 up 0 fs ∙ append-second (claims_by is_owned (above ClassExpression l (h then fs) 0 0 ∷ up) h) (claims_in is_owned up ClassExpression l (h then fs) 0 1 fs) expression-none
