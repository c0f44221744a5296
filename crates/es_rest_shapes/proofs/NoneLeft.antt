-- Where no pattern with a rest is declared, and none stands where it isn't lowered, there is none: each child of each node is at its place.
use Rattle.std.proofs.Common.{◌≡◌, ◌∙◌, ap, refl, sym}
use Rattle.std.specs.Prelude.{Bool, false, true, ◌||◌, ◌&&◌, not, bytes_eq, codes}
use Rattle.std.proofs.lemmas.Bool.{or_from, or_parts}
use Rattle.es_tree.specs.Constructs.{is_object_rest}
use Rattle.es_tree.specs.Names.{first_text}
use Rattle.es_tree.specs.Tree.{Tree, node, Label, Fields, done, ◌then◌, Field, missing, one, many, statements, Trees, empty, ◌before◌}
use Rattle.es_tree.specs.Walks.{any_in_field, any_in_fields, any_in_trees, any_node}
use Rattle.es_tree.specs.declared.ast_type.AstType.{AstType}
use Rattle.es_tree.specs.declared.ast_type.AstType.TheVariants.{AssignmentExpression, AssignmentPattern, ExportNamedDeclaration, ObjectPattern, ObjectTarget, PatternProperty, VariableDeclaration, VariableDeclarator}
use Rattle.es_rest_shapes.specs.Laws.{LawAssignedRests, LawDeclaredRests, LawNoneLeft}
use Rattle.es_tree.specs.RestTargets.{is_rest_assignment, is_rest_target}
use Rattle.es_rest_shapes.specs.RestShapes.{any_beside, any_child, any_child_by, any_tree, bears_among, bears_by, bears_first, bears_rest, bears_second, declares_rest, is_misplaced, is_odd_pattern, is_plain_pattern, is_rest_declaration, is_rest_declarator, is_stray_rest}
use Rattle.es_rest_shapes.proofs.Children.{either-none, fewer}

-- CHILDREN of a node that is at its place are at theirs, where it declares no pattern with a rest

export-children : (fs : Fields) → any_child (λ t. is_misplaced t || declares_rest t) fs ≡ false → any_child is_misplaced fs ≡ false
export-children fs e = fewer (λ t. is_misplaced t || declares_rest t) is_misplaced (λ t h. (or_parts (is_misplaced t) (declares_rest t) h).0) fs e

-- a declarator that declares no pattern with a rest
declarator-children : (p e : Tree) → bears_rest p ≡ false → (is_odd_pattern p || is_misplaced e) ≡ false → any_child is_misplaced (one p then one e then done) ≡ false
declarator-children p e f g =
    let h = or_parts (is_odd_pattern p) (is_misplaced e) g in
    let k = or_parts (bears_rest p && not (is_plain_pattern p)) (is_rest_declarator p) h.0 in
    or_from (is_misplaced p) (is_misplaced e || false) (or_from (bears_rest p) (is_rest_declarator p) f k.1) (or_from (is_misplaced e) false h.1 refl)

declaration-children : (ds : Trees) → any_tree is_rest_declarator ds ≡ false → any_tree bears_rest ds ≡ false → any_child is_misplaced (many ds then done) ≡ false
declaration-children ds f g = or_from (any_tree is_misplaced ds) false (either-none bears_rest is_rest_declarator ds g f) refl

-- what stands in a pattern, in a property or before a default value, none of which bears one

bears-tree : (ts : Trees) → bears_among ts ≡ any_tree bears_rest ts
bears-tree empty = refl
bears-tree (t before ts) = ap (λ b. bears_rest t || b) (bears-tree ts)

by-placed : (f : Field) → bears_by f ≡ false → any_child_by is_rest_declarator f ≡ false → any_child_by is_misplaced f ≡ false
by-placed missing b d = refl
by-placed (one t) b d = or_from (bears_rest t) (is_rest_declarator t) b d
by-placed (many ts) b d = either-none bears_rest is_rest_declarator ts (sym (bears-tree ts) ∙ b) d
by-placed (statements ts) b d = either-none bears_rest is_rest_declarator ts (sym (bears-tree ts) ∙ b) d

first-placed : (fs : Fields) → bears_first fs ≡ false → any_beside fs ≡ false → any_child is_misplaced fs ≡ false
first-placed done b s = refl
first-placed (f then fs) b s =
    let h = or_parts (any_child_by is_rest_declarator f) (any_child is_misplaced fs) s in
    or_from (any_child_by is_misplaced f) (any_child is_misplaced fs) (by-placed f b h.0) h.1

pattern-placed : (l : Label) (fs : Fields) → is_misplaced (node ObjectPattern l fs) ≡ false → any_beside fs ≡ false → any_child is_misplaced fs ≡ false
pattern-placed l fs m s = first-placed fs (or_parts (is_object_rest ObjectPattern l fs) (bears_first fs) (or_parts (bears_rest (node ObjectPattern l fs)) false m).0).1 s

second-placed : (k : Field) (fs : Fields) → (bears_first fs || false) ≡ false → (any_child_by is_misplaced k || any_beside fs) ≡ false → any_child is_misplaced (k then fs) ≡ false
second-placed k fs m s =
    let h = or_parts (any_child_by is_misplaced k) (any_beside fs) s in
    or_from (any_child_by is_misplaced k) (any_child is_misplaced fs) h.0 (first-placed fs (or_parts (bears_first fs) false m).0 h.1)

-- what stands in an assignment that isn't to a pattern with a rest
assignment-placed : (l : Label) (f : Field) (fs : Fields) → is_rest_assignment AssignmentExpression l (f then fs) ≡ false → is_stray_rest AssignmentExpression l (f then fs) ≡ false → any_child is_misplaced (f then fs) ≡ false
assignment-placed l f fs a s =
    let h = or_parts (any_child_by is_misplaced f && not (is_rest_assignment AssignmentExpression l (f then fs))) (any_child is_misplaced fs) s in
    or_from (any_child_by is_misplaced f) (any_child is_misplaced fs) (target (any_child_by is_misplaced f) (is_rest_assignment AssignmentExpression l (f then fs)) a h.0) h.1
  where
    target : (b c : Bool) → c ≡ false → (b && not c) ≡ false → b ≡ false
    target true false e h = h
    target true true e h = e
    target false c e h = refl

pub children-placed : (k : AstType) (l : Label) (fs : Fields) → is_misplaced (node k l fs) ≡ false → is_rest_declaration k l fs ≡ false → is_rest_assignment k l fs ≡ false → is_stray_rest k l fs ≡ false → any_child is_misplaced fs ≡ false
children-placed VariableDeclarator l (one p then one e then done) m d a s = declarator-children p e m s
children-placed VariableDeclarator l (one p then one e then f then fs) m d a s = s
children-placed VariableDeclarator l (one p then many ts then fs) m d a s = s
children-placed VariableDeclarator l (one p then statements ts then fs) m d a s = s
children-placed VariableDeclarator l (one p then missing then fs) m d a s = s
children-placed VariableDeclarator l (one p then done) m d a s = s
children-placed VariableDeclarator l (many ts then fs) m d a s = s
children-placed VariableDeclarator l (statements ts then fs) m d a s = s
children-placed VariableDeclarator l (missing then fs) m d a s = s
children-placed VariableDeclarator l done m d a s = s
children-placed VariableDeclaration l (many ds then done) m d a s = declaration-children ds d s
children-placed VariableDeclaration l (many ds then f then fs) m d a s = s
children-placed VariableDeclaration l (one t then fs) m d a s = s
children-placed VariableDeclaration l (statements ts then fs) m d a s = s
children-placed VariableDeclaration l (missing then fs) m d a s = s
children-placed VariableDeclaration l done m d a s = s
children-placed ExportNamedDeclaration l fs m d a s = export-children fs s
children-placed ObjectPattern l fs m d a s = pattern-placed l fs m s
children-placed PatternProperty l (k then fs) m d a s = second-placed k fs m s
children-placed PatternProperty l done m d a s = s
children-placed AssignmentPattern l fs m d a s = first-placed fs (or_parts (bears_first fs) false m).0 s
children-placed AssignmentExpression l (f then fs) m d a s = assignment-placed l f fs a s
children-placed AssignmentExpression l done m d a s = s
children-placed _ l fs m d a s = s

-- NONE

own-rest : (k : AstType) (l : Label) (fs : Fields) → bears_rest (node k l fs) ≡ false → is_object_rest k l fs ≡ false
own-rest ObjectPattern l fs e = (or_parts (is_object_rest ObjectPattern l fs) (bears_first fs) e).0
own-rest PatternProperty l fs e = refl
own-rest AssignmentPattern l fs e = refl
own-rest _ l fs e = e

mutual
  pub law_none_left_proof : LawNoneLeft
  law_none_left_proof (node k l fs) m s d a =
      let strays = or_parts (is_stray_rest k l fs) (any_in_fields is_stray_rest fs) s in
      let declared = or_parts (is_rest_declaration k l fs) (any_in_fields is_rest_declaration fs) d in
      let assigned = or_parts (is_rest_assignment k l fs) (any_in_fields is_rest_assignment fs) a in
      or_from (is_object_rest k l fs) (any_in_fields is_object_rest fs) (own-rest k l fs (or_parts (bears_rest (node k l fs)) (is_rest_declarator (node k l fs)) m).0) (none-in fs (children-placed k l fs m declared.0 assigned.0 strays.0) strays.1 declared.1 assigned.1)

  none-in : (fs : Fields) → any_child is_misplaced fs ≡ false → any_in_fields is_stray_rest fs ≡ false → any_in_fields is_rest_declaration fs ≡ false → any_in_fields is_rest_assignment fs ≡ false → any_in_fields is_object_rest fs ≡ false
  none-in done m s d a = refl
  none-in (f then fs) m s d a =
      let placed = or_parts (any_child_by is_misplaced f) (any_child is_misplaced fs) m in
      let strays = or_parts (any_in_field is_stray_rest f) (any_in_fields is_stray_rest fs) s in
      let declared = or_parts (any_in_field is_rest_declaration f) (any_in_fields is_rest_declaration fs) d in
      let assigned = or_parts (any_in_field is_rest_assignment f) (any_in_fields is_rest_assignment fs) a in
      or_from (any_in_field is_object_rest f) (any_in_fields is_object_rest fs) (none-by f placed.0 strays.0 declared.0 assigned.0) (none-in fs placed.1 strays.1 declared.1 assigned.1)

  none-by : (f : Field) → any_child_by is_misplaced f ≡ false → any_in_field is_stray_rest f ≡ false → any_in_field is_rest_declaration f ≡ false → any_in_field is_rest_assignment f ≡ false → any_in_field is_object_rest f ≡ false
  none-by missing m s d a = refl
  none-by (one t) m s d a = law_none_left_proof t m s d a
  none-by (many ts) m s d a = none-all ts m s d a
  none-by (statements ts) m s d a = none-all ts m s d a

  none-all : (ts : Trees) → any_tree is_misplaced ts ≡ false → any_in_trees is_stray_rest ts ≡ false → any_in_trees is_rest_declaration ts ≡ false → any_in_trees is_rest_assignment ts ≡ false → any_in_trees is_object_rest ts ≡ false
  none-all empty m s d a = refl
  none-all (t before ts) m s d a =
      let placed = or_parts (is_misplaced t) (any_tree is_misplaced ts) m in
      let strays = or_parts (any_node is_stray_rest t) (any_in_trees is_stray_rest ts) s in
      let declared = or_parts (any_node is_rest_declaration t) (any_in_trees is_rest_declaration ts) d in
      let assigned = or_parts (any_node is_rest_assignment t) (any_in_trees is_rest_assignment ts) a in
      or_from (any_node is_object_rest t) (any_in_trees is_object_rest ts) (law_none_left_proof t placed.0 strays.0 declared.0 assigned.0) (none-all ts placed.1 strays.1 declared.1 assigned.1)

-- WHAT IS DECLARED is one

mutual
  pub bears-none : (t : Tree) → any_node is_object_rest t ≡ false → bears_rest t ≡ false
  bears-none (node ObjectPattern l fs) e =
      let h = or_parts (is_object_rest ObjectPattern l fs) (any_in_fields is_object_rest fs) e in
      or_from (is_object_rest ObjectPattern l fs) (bears_first fs) h.0 (bears-none-first fs h.1)
  bears-none (node PatternProperty l fs) e = bears-none-second fs e
  bears-none (node AssignmentPattern l fs) e = bears-none-first fs e
  bears-none (node k l fs) e = (or_parts (is_object_rest k l fs) (any_in_fields is_object_rest fs) e).0

  bears-none-second : (fs : Fields) → any_in_fields is_object_rest fs ≡ false → bears_second fs ≡ false
  bears-none-second done e = refl
  bears-none-second (f then fs) e = bears-none-first fs (or_parts (any_in_field is_object_rest f) (any_in_fields is_object_rest fs) e).1

  bears-none-first : (fs : Fields) → any_in_fields is_object_rest fs ≡ false → bears_first fs ≡ false
  bears-none-first done e = refl
  bears-none-first (f then fs) e = bears-none-by f (or_parts (any_in_field is_object_rest f) (any_in_fields is_object_rest fs) e).0

  bears-none-by : (f : Field) → any_in_field is_object_rest f ≡ false → bears_by f ≡ false
  bears-none-by missing e = refl
  bears-none-by (one t) e = bears-none t e
  bears-none-by (many ts) e = bears-none-among ts e
  bears-none-by (statements ts) e = bears-none-among ts e

  bears-none-among : (ts : Trees) → any_in_trees is_object_rest ts ≡ false → bears_among ts ≡ false
  bears-none-among empty e = refl
  bears-none-among (t before ts) e =
      let h = or_parts (any_node is_object_rest t) (any_in_trees is_object_rest ts) e in
      or_from (bears_rest t) (bears_among ts) (bears-none t h.0) (bears-none-among ts h.1)

pub declarator-rest : (t : Tree) → any_node is_object_rest t ≡ false → is_rest_declarator t ≡ false
declarator-rest (node VariableDeclarator l (one p then fs)) e = bears-none p (or_parts (any_node is_object_rest p) (any_in_fields is_object_rest fs) e).0
declarator-rest (node VariableDeclarator l (missing then fs)) e = refl
declarator-rest (node VariableDeclarator l (many ts then fs)) e = refl
declarator-rest (node VariableDeclarator l (statements ts then fs)) e = refl
declarator-rest (node VariableDeclarator l done) e = refl
declarator-rest (node _ l fs) e = refl

declarators-rest : (ts : Trees) → any_in_trees is_object_rest ts ≡ false → any_tree is_rest_declarator ts ≡ false
declarators-rest empty e = refl
declarators-rest (t before ts) e =
    let h = or_parts (any_node is_object_rest t) (any_in_trees is_object_rest ts) e in
    or_from (is_rest_declarator t) (any_tree is_rest_declarator ts) (declarator-rest t h.0) (declarators-rest ts h.1)

pub declaration-rest : (k : AstType) (l : Label) (fs : Fields) → any_in_fields is_object_rest fs ≡ false → is_rest_declaration k l fs ≡ false
declaration-rest VariableDeclaration l (many ds then fs) e = declarators-rest ds (or_parts (any_in_trees is_object_rest ds) (any_in_fields is_object_rest fs) e).0
declaration-rest VariableDeclaration l (missing then fs) e = refl
declaration-rest VariableDeclaration l (one t then fs) e = refl
declaration-rest VariableDeclaration l (statements ts then fs) e = refl
declaration-rest VariableDeclaration l done e = refl
declaration-rest _ l fs e = refl

mutual
  pub law_declared_rests_proof : LawDeclaredRests
  law_declared_rests_proof (node k l fs) e =
      let h = or_parts (is_object_rest k l fs) (any_in_fields is_object_rest fs) e in
      or_from (is_rest_declaration k l fs) (any_in_fields is_rest_declaration fs) (declaration-rest k l fs h.1) (undeclared-in fs h.1)

  undeclared-in : (fs : Fields) → any_in_fields is_object_rest fs ≡ false → any_in_fields is_rest_declaration fs ≡ false
  undeclared-in done e = refl
  undeclared-in (f then fs) e =
      let h = or_parts (any_in_field is_object_rest f) (any_in_fields is_object_rest fs) e in
      or_from (any_in_field is_rest_declaration f) (any_in_fields is_rest_declaration fs) (undeclared-by f h.0) (undeclared-in fs h.1)

  undeclared-by : (f : Field) → any_in_field is_object_rest f ≡ false → any_in_field is_rest_declaration f ≡ false
  undeclared-by missing e = refl
  undeclared-by (one t) e = law_declared_rests_proof t e
  undeclared-by (many ts) e = undeclared-all ts e
  undeclared-by (statements ts) e = undeclared-all ts e

  undeclared-all : (ts : Trees) → any_in_trees is_object_rest ts ≡ false → any_in_trees is_rest_declaration ts ≡ false
  undeclared-all empty e = refl
  undeclared-all (t before ts) e =
      let h = or_parts (any_node is_object_rest t) (any_in_trees is_object_rest ts) e in
      or_from (any_node is_rest_declaration t) (any_in_trees is_rest_declaration ts) (law_declared_rests_proof t h.0) (undeclared-all ts h.1)

-- WHAT IS ASSIGNED TO is one

target-none : (f : Field) → any_in_field is_object_rest f ≡ false → is_rest_target f ≡ false
target-none (one (node ObjectTarget l fs)) e = (or_parts (is_object_rest ObjectTarget l fs) (any_in_fields is_object_rest fs) e).0
target-none (one (node _ l fs)) e = refl
target-none missing e = refl
target-none (many ts) e = refl
target-none (statements ts) e = refl

pub assignment-none : (k : AstType) (l : Label) (fs : Fields) → any_in_fields is_object_rest fs ≡ false → is_rest_assignment k l fs ≡ false
assignment-none AssignmentExpression l (f then fs) e = and-none (bytes_eq (first_text l.texts) (codes "=")) (is_rest_target f) (target-none f (or_parts (any_in_field is_object_rest f) (any_in_fields is_object_rest fs) e).0)
  where
    and-none : (a b : Bool) → b ≡ false → (a && b) ≡ false
    and-none true b h = h
    and-none false b h = refl
assignment-none AssignmentExpression l done e = and-false (bytes_eq (first_text l.texts) (codes "="))
  where
    and-false : (a : Bool) → (a && false) ≡ false
    and-false true = refl
    and-false false = refl
assignment-none _ l fs e = refl

mutual
  pub law_assigned_rests_proof : LawAssignedRests
  law_assigned_rests_proof (node k l fs) e =
      let h = or_parts (is_object_rest k l fs) (any_in_fields is_object_rest fs) e in
      or_from (is_rest_assignment k l fs) (any_in_fields is_rest_assignment fs) (assignment-none k l fs h.1) (assigned-in fs h.1)

  assigned-in : (fs : Fields) → any_in_fields is_object_rest fs ≡ false → any_in_fields is_rest_assignment fs ≡ false
  assigned-in done e = refl
  assigned-in (f then fs) e =
      let h = or_parts (any_in_field is_object_rest f) (any_in_fields is_object_rest fs) e in
      or_from (any_in_field is_rest_assignment f) (any_in_fields is_rest_assignment fs) (assigned-by f h.0) (assigned-in fs h.1)

  assigned-by : (f : Field) → any_in_field is_object_rest f ≡ false → any_in_field is_rest_assignment f ≡ false
  assigned-by missing e = refl
  assigned-by (one t) e = law_assigned_rests_proof t e
  assigned-by (many ts) e = assigned-all ts e
  assigned-by (statements ts) e = assigned-all ts e

  assigned-all : (ts : Trees) → any_in_trees is_object_rest ts ≡ false → any_in_trees is_rest_assignment ts ≡ false
  assigned-all empty e = refl
  assigned-all (t before ts) e =
      let h = or_parts (any_node is_object_rest t) (any_in_trees is_object_rest ts) e in
      or_from (any_node is_rest_assignment t) (any_in_trees is_rest_assignment ts) (law_assigned_rests_proof t h.0) (assigned-all ts h.1)
