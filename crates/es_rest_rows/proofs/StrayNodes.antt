-- Trees without a pattern with a rest that isn't lowered, and that are at their place wherever they stand; and nodes that are made of them.
use Rattle.std.proofs.Common.{List, [], ap, refl, subst, sym, ◌++◌, ◌∙◌, ◌∷◌, ◌≡◌}
use Rattle.std.specs.Prelude.{Bool, bytes_eq, codes, false, is_some, not, true, ◌&&◌, ◌||◌}
use Rattle.std.proofs.lemmas.Bool.{or_from, or_parts}
use Rattle.es_tree.specs.Constructs.{any_kind, is_object_rest, is_rest}
use Rattle.es_tree.specs.Parens.{without_parens}
use Rattle.es_tree.specs.Tree.{Field, Fields, Label, Tree, Trees, done, empty, fields_of, kind_of, label_of, many, missing, node, one, statements, trees, ◌before◌, ◌then◌}
use Rattle.es_tree.specs.RestTargets.{is_rest_assignment, is_rest_target}
use Rattle.es_tree.specs.Names.{first_text}
use Rattle.es_tree.specs.declared.ast_type.AstType.{AstType}
use Rattle.es_tree.specs.declared.ast_type.AstType.TheVariants.{AssignmentExpression, AssignmentPattern, BigIntLiteral, BooleanLiteral, ExportNamedDeclaration, Identifier, NullLiteral, NumericLiteral, ObjectPattern, ObjectTarget, ParenthesizedExpression, PatternProperty, RestElement, StringLiteral, TargetRest, TemplateElement, TemplateLiteral, VariableDeclaration, VariableDeclarator}
use Rattle.es_steps.specs.Nodes.{placed}
use Rattle.es_reached.proofs.FreeTrees.{Free, FreeAll, FreeBy, FreeIn}
use Rattle.es_tree.specs.PropertyKeys.{second_text}
use Rattle.es_rest_shapes.specs.RestShapes.{any_child, any_child_by, any_tree, bears_rest, declares_rest, is_known_key, is_misplaced, is_name, is_named_rest, is_plain_property, is_plain_target, is_plain_value, is_rest_declarator, is_stray_rest}

-- MARKS: what a node may be, as far as those around it see

pub data Mark : Type 0 where
  a_pattern : Mark
  a_declarator : Mark
  a_declaration : Mark
  a_rest : Mark
  a_stray : Mark
  an_export : Mark
  a_target : Mark

abbrev pub passes : Mark → Tree → Bool
passes a_pattern = bears_rest
passes a_declarator = is_rest_declarator
passes a_declaration = declares_rest
passes a_rest = λ t. is_rest (kind_of t)
passes a_stray = is_misplaced
passes an_export = λ t. is_misplaced t || declares_rest t
passes a_target = λ t. is_misplaced t && not (is_rest_target (one t))

-- kinds of nodes that are none of this, and hold no child that is misplaced
abbrev pub is_ordinary : AstType → Bool
is_ordinary AssignmentPattern = false
is_ordinary ExportNamedDeclaration = false
is_ordinary ObjectPattern = false
is_ordinary ObjectTarget = false
is_ordinary PatternProperty = false
is_ordinary RestElement = false
is_ordinary TargetRest = false
is_ordinary VariableDeclaration = false
is_ordinary VariableDeclarator = false
is_ordinary _ = true

pub ordinary-marks : (m : Mark) (k : AstType) (l : Label) (fs : Fields) → is_ordinary k ≡ true → passes m (node k l fs) ≡ false
ordinary-marks m AssignmentPattern l fs e = absurd (cc e)
ordinary-marks m ExportNamedDeclaration l fs e = absurd (cc e)
ordinary-marks m ObjectPattern l fs e = absurd (cc e)
ordinary-marks m ObjectTarget l fs e = absurd (cc e)
ordinary-marks m PatternProperty l fs e = absurd (cc e)
ordinary-marks m RestElement l fs e = absurd (cc e)
ordinary-marks m TargetRest l fs e = absurd (cc e)
ordinary-marks m VariableDeclaration l fs e = absurd (cc e)
ordinary-marks m VariableDeclarator l fs e = absurd (cc e)
ordinary-marks a_pattern _ l fs e = refl
ordinary-marks a_declarator _ l fs e = refl
ordinary-marks a_declaration _ l fs e = refl
ordinary-marks a_rest _ l fs e = refl
ordinary-marks a_stray _ l fs e = refl
ordinary-marks an_export _ l fs e = refl
ordinary-marks a_target _ l fs e = refl

pub and-true : (b : Bool) → (b && true) ≡ b
and-true true = refl
and-true false = refl

-- one that isn't an assignment to a pattern with a rest holds one where that isn't lowered exactly where a child is misplaced
ordinary-stray : (k : AstType) (l : Label) (fs : Fields) → is_ordinary k ≡ true → is_rest_assignment k l fs ≡ false → is_stray_rest k l fs ≡ any_child is_misplaced fs
ordinary-stray AssignmentPattern l fs e a = absurd (cc e)
ordinary-stray ExportNamedDeclaration l fs e a = absurd (cc e)
ordinary-stray ObjectPattern l fs e a = absurd (cc e)
ordinary-stray PatternProperty l fs e a = absurd (cc e)
ordinary-stray VariableDeclaration l fs e a = absurd (cc e)
ordinary-stray VariableDeclarator l fs e a = absurd (cc e)
ordinary-stray AssignmentExpression l (f then fs) e a = ap (λ b. (any_child_by is_misplaced f && not b) || any_child is_misplaced fs) a ∙ ap (λ b. b || any_child is_misplaced fs) (and-true (any_child_by is_misplaced f))
ordinary-stray AssignmentExpression l done e a = refl
ordinary-stray _ l fs e a = refl

-- a pattern with a rest is misplaced
target-placed : (f : Field) → any_child_by is_misplaced f ≡ false → is_rest_target f ≡ false
target-placed (one (node ObjectTarget l fs)) e = (or_parts (is_object_rest ObjectTarget l fs) false e).0
target-placed (one (node _ l fs)) e = refl
target-placed missing e = refl
target-placed (many ts) e = refl
target-placed (statements ts) e = refl

pub unassigned : (k : AstType) (l : Label) (fs : Fields) → any_child is_misplaced fs ≡ false → is_rest_assignment k l fs ≡ false
unassigned AssignmentExpression l (f then fs) e = last-false (bytes_eq (first_text l.texts) (codes "=")) (is_rest_target f) (target-placed f (or_parts (any_child_by is_misplaced f) (any_child is_misplaced fs) e).0)
  where
    last-false : (a b : Bool) → b ≡ false → (a && b) ≡ false
    last-false true b h = h
    last-false false b h = refl
unassigned AssignmentExpression l done e = first-only (bytes_eq (first_text l.texts) (codes "="))
  where
    first-only : (a : Bool) → (a && false) ≡ false
    first-only true = refl
    first-only false = refl
unassigned _ l fs e = refl

-- in a property they are plain
pub ordinary-plain : (k : AstType) (l : Label) (fs : Fields) → is_ordinary k ≡ true → (is_plain_value (node k l fs) ≡ true) × (is_plain_target (node k l fs) ≡ true)
ordinary-plain AssignmentPattern l fs e = absurd (cc e)
ordinary-plain ObjectPattern l fs e = absurd (cc e)
ordinary-plain ObjectTarget l fs e = absurd (cc e)
ordinary-plain PatternProperty l fs e = absurd (cc e)
ordinary-plain _ l fs e = (refl, refl)

-- kinds of nodes on which rows act: no key whose text stands in the program, no property and no rest among them
abbrev pub is_acting : AstType → Bool
is_acting BigIntLiteral = false
is_acting BooleanLiteral = false
is_acting Identifier = false
is_acting NullLiteral = false
is_acting NumericLiteral = false
is_acting PatternProperty = false
is_acting RestElement = false
is_acting StringLiteral = false
is_acting TemplateElement = false
is_acting TemplateLiteral = false
is_acting _ = true

pub acting-key : (t : Tree) → is_acting (kind_of t) ≡ true → is_known_key t ≡ false
acting-key (node BigIntLiteral l fs) e = absurd (cc e)
acting-key (node BooleanLiteral l fs) e = absurd (cc e)
acting-key (node Identifier l fs) e = absurd (cc e)
acting-key (node NullLiteral l fs) e = absurd (cc e)
acting-key (node NumericLiteral l fs) e = absurd (cc e)
acting-key (node StringLiteral l fs) e = absurd (cc e)
acting-key (node TemplateLiteral l fs) e = absurd (cc e)
acting-key (node _ l fs) e = refl

pub acting-name : (t : Tree) → is_acting (kind_of t) ≡ true → is_name t ≡ false
acting-name (node Identifier l fs) e = absurd (cc e)
acting-name (node _ l fs) e = refl

pub acting-property : (t : Tree) → is_acting (kind_of t) ≡ true → is_plain_property t ≡ false
acting-property (node PatternProperty l fs) e = absurd (cc e)
acting-property (node _ l fs) e = refl

pub acting-named : (t : Tree) → is_acting (kind_of t) ≡ true → is_named_rest t ≡ false
acting-named (node RestElement l fs) e = absurd (cc e)
acting-named (node _ l fs) e = refl

-- an element of a template that gives a text
abbrev pub is_text_element : Tree → Bool
is_text_element (node TemplateElement l fs) = is_some (second_text l.texts)
is_text_element _ = false

pub acting-element : (t : Tree) → is_acting (kind_of t) ≡ true → is_text_element t ≡ false
acting-element (node TemplateElement l fs) e = absurd (cc e)
acting-element (node _ l fs) e = refl

-- TREES without such a pattern, and those that are at their place wherever they stand

pub record Clean (t : Tree) : Type 0 where
  pub nodes : Free is_stray_rest t

pub record Sound (t : Tree) : Type 0 where
  pub free : Clean t
  pub placed : is_misplaced t ≡ false

abbrev mutual
  pub SoundIn : Fields → Type 0
  SoundIn done = Unit {0}
  SoundIn (f then fs) = SoundBy f × SoundIn fs

  pub SoundBy : Field → Type 0
  SoundBy missing = Unit {0}
  SoundBy (one t) = Sound t
  SoundBy (many ts) = SoundAll ts
  SoundBy (statements ts) = SoundAll ts

  pub SoundAll : Trees → Type 0
  SoundAll empty = Unit {0}
  SoundAll (t before ts) = Sound t × SoundAll ts

sound-all : (ts : Trees) → any_tree is_misplaced ts ≡ false → FreeAll is_stray_rest ts → SoundAll ts
sound-all empty e h = tt
sound-all (t before ts) e h = let k = or_parts (is_misplaced t) (any_tree is_misplaced ts) e in (record { free = record { nodes = h.0 }; placed = k.0 }, sound-all ts k.1 h.1)

sound-by : (f : Field) → any_child_by is_misplaced f ≡ false → FreeBy is_stray_rest f → SoundBy f
sound-by missing e h = tt
sound-by (one t) e h = record { free = record { nodes = h }; placed = e }
sound-by (many ts) e h = sound-all ts e h
sound-by (statements ts) e h = sound-all ts e h

sound-in : (fs : Fields) → any_child is_misplaced fs ≡ false → FreeIn is_stray_rest fs → SoundIn fs
sound-in done e h = tt
sound-in (f then fs) e h = let k = or_parts (any_child_by is_misplaced f) (any_child is_misplaced fs) e in (sound-by f k.0 h.0, sound-in fs k.1 h.1)

placed-all : (ts : Trees) → SoundAll ts → any_tree is_misplaced ts ≡ false
placed-all empty h = refl
placed-all (t before ts) h = or_from (is_misplaced t) (any_tree is_misplaced ts) h.0.placed (placed-all ts h.1)

placed-by : (f : Field) → SoundBy f → any_child_by is_misplaced f ≡ false
placed-by missing h = refl
placed-by (one t) h = h.placed
placed-by (many ts) h = placed-all ts h
placed-by (statements ts) h = placed-all ts h

placed-in : (fs : Fields) → SoundIn fs → any_child is_misplaced fs ≡ false
placed-in done h = refl
placed-in (f then fs) h = or_from (any_child_by is_misplaced f) (any_child is_misplaced fs) (placed-by f h.0) (placed-in fs h.1)

free-all : (ts : Trees) → SoundAll ts → FreeAll is_stray_rest ts
free-all empty h = tt
free-all (t before ts) h = (h.0.free.nodes, free-all ts h.1)

free-by : (f : Field) → SoundBy f → FreeBy is_stray_rest f
free-by missing h = tt
free-by (one t) h = h.free.nodes
free-by (many ts) h = free-all ts h
free-by (statements ts) h = free-all ts h

free-in : (fs : Fields) → SoundIn fs → FreeIn is_stray_rest fs
free-in done h = tt
free-in (f then fs) h = (free-by f h.0, free-in fs h.1)

-- what stands in a node of an ordinary kind, and such a node of it
pub below : {k : AstType} {l : Label} {fs : Fields} → is_ordinary k ≡ true → is_rest_assignment k l fs ≡ false → Clean (node k l fs) → SoundIn fs
below {k} {l} {fs} o a h = sound-in fs (sym (ordinary-stray k l fs o a) ∙ h.nodes.0) h.nodes.1

pub above : {k : AstType} {l : Label} {fs : Fields} → is_ordinary k ≡ true → SoundIn fs → Sound (node k l fs)
above {k} {l} {fs} o h = record { free = record { nodes = (ordinary-stray k l fs o (unassigned k l fs (placed-in fs h)) ∙ placed-in fs h, free-in fs h) }; placed = ordinary-marks a_stray k l fs o }

-- a pattern of targets without a rest, and what a rest is assigned to
pub group-sound : {l : Label} {ps : Trees} → is_rest_target (one (node ObjectTarget l (many ps then done))) ≡ false → SoundAll ps → Sound (node ObjectTarget l (many ps then done))
group-sound {l} {ps} e h = record { free = record { nodes = (or_from (any_tree is_misplaced ps) false (placed-all ps h) refl, (free-all ps h, tt)) }; placed = or_from (any_kind is_rest ps) false e refl }

pub below-rest : {l : Label} {t : Tree} → Sound (node TargetRest l (one t then done)) → Sound t
below-rest {l} {t} h = record { free = record { nodes = h.free.nodes.1.0 }; placed = (or_parts (is_misplaced t) false h.free.nodes.0).0 }

-- of an assignment to a pattern of targets: its properties, and the value
pub below-pattern : {m l : Label} {ps : Trees} {e : Tree} → Clean (node AssignmentExpression m (one (node ObjectTarget l (many ps then done)) then one e then done)) → SoundAll ps × Sound e
below-pattern {m} {l} {ps} {e} h =
    let target = node ObjectTarget l (many ps then done) in
    let value = (or_parts (is_misplaced target && not (is_rest_assignment AssignmentExpression m (one target then one e then done))) (is_misplaced e || false) h.nodes.0).1 in
    (sound-all ps (or_parts (any_tree is_misplaced ps) false h.nodes.1.0.0).0 h.nodes.1.0.1.0, record { free = record { nodes = h.nodes.1.1.0 }; placed = (or_parts (is_misplaced e) false value).0 })

-- below parentheses
pub inner : (t : Tree) → Sound t → Sound (without_parens t)
inner (node ParenthesizedExpression l (one t then fs)) h = inner t (below refl refl h.free).0
inner t h = h

pub inner-is : (t u : Tree) → without_parens t ≡ u → Sound t → Sound u
inner-is t u e h = subst (λ (x : Tree). Sound x) e (inner t h)

pub append-sound : (xs ys : List Tree) → SoundAll (trees xs) → SoundAll (trees ys) → SoundAll (trees (xs ++ ys))
append-sound [] ys h k = k
append-sound (x ∷ xs) ys h k = (h.0, append-sound xs ys h.1 k)

-- WHAT A ROW LEAVES

pub record Replaced (u : Tree) : Type 0 where
  pub sound : Sound u
  pub ordinary : is_ordinary (kind_of u) ≡ true
  pub unassigned : is_rest_assignment (kind_of u) (label_of u) (fields_of u) ≡ false

pub made : {k : AstType} {l : Label} {fs : Fields} → is_ordinary k ≡ true → SoundIn fs → Replaced (node k l fs)
made {k} {l} {fs} o h = record { sound = above o h; ordinary = o; unassigned = unassigned k l fs (placed-in fs h) }

pub moved : (m : Label) (u : Tree) → Replaced u → Replaced (placed m u)
moved m (node k l fs) h = made h.ordinary (below h.ordinary h.unassigned h.sound.free)
