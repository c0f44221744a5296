-- Trees of which no node passes a test, lists of them, and what is pending without one; and the tests of what is sought.
use Rattle.std.proofs.Common.{◌≡◌, refl, sym, ap, ◌∙◌, List, [], ◌∷◌, ◌++◌}
use Rattle.std.specs.Prelude.{Bool, true, false, ◌&&◌, ◌||◌, Option, Some, None, bytes_eq, codes, map, not, if◌then◌else◌}
use Rattle.es_tree.specs.Bare.{bare, bare_field, bare_fields, bare_label, bare_trees}
use Rattle.es_tree.specs.Constructs.{any_kind, field_at, has_member, is_chain, is_object_rest, is_object_spread, is_rest, is_spread, is_using}
use Rattle.es_tree.specs.Names.{first_text}
use Rattle.es_tree.specs.Parens.{without_parens}
use Rattle.es_tree.specs.Tree.{Tree, node, Label, Fields, done, ◌then◌, Field, missing, one, many, statements, Trees, empty, ◌before◌, trees, kind_of}
use Rattle.es_tree.specs.Walks.{any_node, any_in_field, any_in_fields, any_in_trees}
use Rattle.es_tree.specs.Words.{Text}
use Rattle.es_tree.specs.declared.ast_type.AstType.{AstType}
use Rattle.es_tree.specs.declared.ast_type.AstType.TheVariants.{AssignmentExpression, BinaryExpression, ChainExpression, FunctionBody, FunctionExpression, Identifier, ImportDeclaration, ImportDefaultSpecifier, ImportSpecifier, ObjectExpression, ObjectPattern, ObjectTarget, ParenthesizedExpression, RestElement, ReturnStatement, SpreadElement, StringLiteral, TargetRest, ThisExpression, VariableDeclaration, VariableDeclarator}
use Rattle.es_runs.proofs.Named.{or_both, or_first, or_second}
use Rattle.es_resolution.specs.Declarations.{Bound}
use Rattle.es_steps.specs.Nodes.{declarator, identifier, joined_trees, placed, return_node}
use Rattle.es_steps.specs.Open.{Additions, Import, Pending, after_imports, body_with, declaration, flanks_with, import_statement, is_import, pending_statements, whole_list, with_this, with_vars, written, written_body}
use Rattle.es_steps.specs.Steps.{Ledger, Spot}
use Rattle.es_steps.specs.Steps.Spot.{at_beside, at_body, at_list, at_node, at_trees}
use Rattle.es_steps.proofs.Taken.{pending_in, top_in}
use Rattle.es_reached.specs.Unmade.{Sought, is_any_logical_assignment, is_any_power, is_sought}

-- where of two tests each stays false, both do
pub neither : (a b c d : Bool) → (a ≡ false → c ≡ false) → (b ≡ false → d ≡ false) → (a || b) ≡ false → (c || d) ≡ false
neither a b c d f g e = or_both c d (f (or_first a b e)) (g (or_second a b e))

-- KINDS

module _ (q : AstType → Bool) where
  pub joined-kinds : (xs ts : Trees) → any_kind q (joined_trees xs ts) ≡ (any_kind q xs || any_kind q ts)
  joined-kinds empty ts = refl
  joined-kinds (x before xs) ts = ap (λ b. q (kind_of x) || b) (joined-kinds xs ts) ∙ or-assoc (q (kind_of x)) (any_kind q xs) (any_kind q ts)
    where
      or-assoc : (a b c : Bool) → (a || (b || c)) ≡ ((a || b) || c)
      or-assoc true b c = refl
      or-assoc false b c = refl

  pub joined-none : (xs ys ts us : Trees) → (any_kind q xs ≡ false → any_kind q ys ≡ false) → (any_kind q ts ≡ false → any_kind q us ≡ false) → any_kind q (joined_trees xs ts) ≡ false → any_kind q (joined_trees ys us) ≡ false
  joined-none xs ys ts us f g e = joined-kinds ys us ∙ neither (any_kind q xs) (any_kind q ts) (any_kind q ys) (any_kind q us) f g (sym (joined-kinds xs ts) ∙ e)

-- what tells one among the members of a list: a rest, or else a spread
abbrev pub is_part : Bool → AstType → Bool
is_part b RestElement = b
is_part b TargetRest = b
is_part b SpreadElement = not b
is_part b _ = false

rest-part : (k : AstType) → is_part true k ≡ is_rest k
rest-part RestElement = refl
rest-part TargetRest = refl
rest-part _ = refl

pub spread-part : (k : AstType) → is_part false k ≡ is_spread k
spread-part SpreadElement = refl
spread-part RestElement = refl
spread-part TargetRest = refl
spread-part _ = refl

pub rest-members : (f : Field) → has_member (is_part true) f ≡ has_member is_rest f
rest-members f = λ i. has_member (λ k. rest-part k i) f

pub spread-members : (f : Field) → has_member (is_part false) f ≡ has_member is_spread f
spread-members f = λ i. has_member (λ k. spread-part k i) f

-- whether such a part stands there itself
abbrev pub is_part_spot : Bool → Spot → Bool
is_part_spot m (at_node t) = is_part m (kind_of t)
is_part_spot m (at_beside bs t cs) = any_kind (is_part m) (flanks_with bs t cs empty)
is_part_spot m (at_list p x a ts) = any_kind (is_part m) (whole_list p x a ts)
is_part_spot m (at_body p t) = is_part m (kind_of (written_body p t))
is_part_spot m (at_trees us) = any_kind (is_part m) us

-- TESTS OF NODES

-- kinds of nodes that are written of what is pending, or take the place of a `this` or an arrow; of a declaration its word tells, too
abbrev pub is_made_kind : AstType → Label → Bool
is_made_kind FunctionBody l = true
is_made_kind FunctionExpression l = true
is_made_kind Identifier l = true
is_made_kind ImportDeclaration l = true
is_made_kind ImportDefaultSpecifier l = true
is_made_kind ImportSpecifier l = true
is_made_kind ReturnStatement l = true
is_made_kind StringLiteral l = true
is_made_kind ThisExpression l = true
is_made_kind VariableDeclaration l = not (bytes_eq (first_text l.texts) (codes "using"))
is_made_kind VariableDeclarator l = true
is_made_kind _ l = false

-- no such node passes the test
abbrev pub PassesNoMade : (AstType → Label → Fields → Bool) → Type 0
PassesNoMade T = (k : AstType) (l : Label) (fs : Fields) → is_made_kind k l ≡ true → T k l fs ≡ false

module _ (T : AstType → Label → Fields → Bool) where
  -- TREES

  abbrev mutual
    -- no node of the tree passes the test
    pub Free : Tree → Type 0
    Free (node k l fs) = (T k l fs ≡ false) × FreeIn fs

    pub FreeIn : Fields → Type 0
    FreeIn done = Unit {0}
    FreeIn (f then fs) = FreeBy f × FreeIn fs

    pub FreeBy : Field → Type 0
    FreeBy missing = Unit {0}
    FreeBy (one t) = Free t
    FreeBy (many ts) = FreeAll ts
    FreeBy (statements ts) = FreeAll ts

    pub FreeAll : Trees → Type 0
    FreeAll empty = Unit {0}
    FreeAll (t before ts) = Free t × FreeAll ts

  mutual
    pub free : (t : Tree) → any_node T t ≡ false → Free t
    free (node k l fs) e = (or_first (T k l fs) (any_in_fields T fs) e, free-in fs (or_second (T k l fs) (any_in_fields T fs) e))

    free-in : (fs : Fields) → any_in_fields T fs ≡ false → FreeIn fs
    free-in done e = tt
    free-in (f then fs) e = (free-by f (or_first (any_in_field T f) (any_in_fields T fs) e), free-in fs (or_second (any_in_field T f) (any_in_fields T fs) e))

    free-by : (f : Field) → any_in_field T f ≡ false → FreeBy f
    free-by missing e = tt
    free-by (one t) e = free t e
    free-by (many ts) e = free-all ts e
    free-by (statements ts) e = free-all ts e

    free-all : (ts : Trees) → any_in_trees T ts ≡ false → FreeAll ts
    free-all empty e = tt
    free-all (t before ts) e = (free t (or_first (any_node T t) (any_in_trees T ts) e), free-all ts (or_second (any_node T t) (any_in_trees T ts) e))

  mutual
    pub none : (t : Tree) → Free t → any_node T t ≡ false
    none (node k l fs) h = or_both (T k l fs) (any_in_fields T fs) h.0 (none-in fs h.1)

    none-in : (fs : Fields) → FreeIn fs → any_in_fields T fs ≡ false
    none-in done h = refl
    none-in (f then fs) h = or_both (any_in_field T f) (any_in_fields T fs) (none-by f h.0) (none-in fs h.1)

    none-by : (f : Field) → FreeBy f → any_in_field T f ≡ false
    none-by missing h = refl
    none-by (one t) h = none t h
    none-by (many ts) h = none-all ts h
    none-by (statements ts) h = none-all ts h

    none-all : (ts : Trees) → FreeAll ts → any_in_trees T ts ≡ false
    none-all empty h = refl
    none-all (t before ts) h = or_both (any_node T t) (any_in_trees T ts) (none t h.0) (none-all ts h.1)

  -- PARTS

  pub inner-free : (t : Tree) → Free t → Free (without_parens t)
  inner-free (node ParenthesizedExpression l (one t then fs)) h = inner-free t h.1.0
  inner-free t h = h

  -- LISTS

  pub joined-free : (xs ts : Trees) → FreeAll xs → FreeAll ts → FreeAll (joined_trees xs ts)
  joined-free empty ts h k = k
  joined-free (x before xs) ts h k = (h.0, joined-free xs ts h.1 k)

  pub free-joined : (xs ts : Trees) → FreeAll (joined_trees xs ts) → FreeAll xs × FreeAll ts
  free-joined empty ts h = (tt, h)
  free-joined (x before xs) ts h = let k = free-joined xs ts h.1 in ((h.0, k.0), k.1)

  pub append-free : (xs ys : List Tree) → FreeAll (trees xs) → FreeAll (trees ys) → FreeAll (trees (xs ++ ys))
  append-free [] ys h k = k
  append-free (x ∷ xs) ys h k = (h.0, append-free xs ys h.1 k)

  after-free : (bs ts : Trees) → FreeAll bs → FreeAll ts → FreeAll (after_imports bs ts)
  after-free bs empty h k = h
  after-free bs (t before ts) h k = at (is_import t) (after-free bs ts h k.1)
    where
      at : (v : Bool) → FreeAll (after_imports bs ts) → FreeAll (if v then t before after_imports bs ts else joined_trees bs (t before ts))
      at true rest = (k.0, rest)
      at false rest = joined-free bs (t before ts) h k

  free-after : (bs ts : Trees) → FreeAll (after_imports bs ts) → FreeAll bs × FreeAll ts
  free-after bs empty h = (h, tt)
  free-after bs (t before ts) h = at (is_import t) (λ k. free-after bs ts k) h
    where
      at : (v : Bool) → (FreeAll (after_imports bs ts) → FreeAll bs × FreeAll ts) → FreeAll (if v then t before after_imports bs ts else joined_trees bs (t before ts)) → FreeAll bs × FreeAll (t before ts)
      at true rest h = let k = rest h.1 in (k.0, (h.0, k.1))
      at false rest h = free-joined bs (t before ts) h

  pub flanks-free : (bs cs : List Tree) (t : Tree) (ts : Trees) → FreeAll (trees bs) → Free t → FreeAll (trees cs) → FreeAll ts → FreeAll (flanks_with bs t cs ts)
  flanks-free bs cs t ts a b c d = joined-free (trees bs) (t before joined_trees (trees cs) ts) a (b, joined-free (trees cs) ts c d)

  pub free-flanks : (bs cs : List Tree) (t : Tree) (ts : Trees) → FreeAll (flanks_with bs t cs ts) → (FreeAll (trees bs) × FreeAll (trees cs)) × (Free t × FreeAll ts)
  free-flanks bs cs t ts h =
      let k = free-joined (trees bs) (t before joined_trees (trees cs) ts) h in
      let m = free-joined (trees cs) ts k.1.1 in
      ((k.0, m.0), (k.1.0, m.1))

  -- WHAT IS PENDING

  pub record PendingFree (p : Pending) : Type 0 where
    pub vars : FreeAll (trees p.vars)
    pub lets : FreeAll (trees p.lets)

  free-declaration : (kind : Text) (ds : List Tree) (ts : Trees) → FreeAll (declaration kind ds ts) → FreeAll (trees ds) × FreeAll ts
  free-declaration kind [] ts h = (tt, h)
  free-declaration kind (d ∷ ds) ts h = (h.0.1.0, h.1)

  free-this : (x : Option Bound) (ts : Trees) → FreeAll (with_this x ts) → FreeAll ts
  free-this None ts h = h
  free-this (Some b) ts h = h.1

  free-written : (p : Pending) (ts : Trees) → FreeAll (written p ts) → PendingFree p
  free-written p ts h =
      let a = free-declaration (codes "var") p.vars (declaration (codes "let") p.lets ts) h in
      record { vars = a.0; lets = (free-declaration (codes "let") p.lets ts a.1).0 }

  -- a list with all that is pending for it, and its parts
  pub record ListFree (p : Pending) (a : Additions) (ts : Trees) : Type 0 where
    pub pending : PendingFree p
    pub excluded : FreeAll (trees a.excluded)
    pub all : FreeAll ts

  pub free-whole : (p : Pending) (x : Option Bound) (a : Additions) (ts : Trees) → FreeAll (whole_list p x a ts) → ListFree p a ts
  free-whole p x a ts h =
      let imports = trees (map import_statement a.imports) in
      let k = free-after (pending_statements p x a) ts h in
      let e = free-declaration (codes "const") a.excluded (with_this x (joined_trees imports (written p empty))) k.0 in
      let i = free-joined imports (written p empty) (free-this x (joined_trees imports (written p empty)) e.1) in
      record { pending = free-written p empty i.1; excluded = e.0; all = k.1 }

  pub free-body : (vs ls : List Tree) (e : Tree) → Free (body_with vs ls e) → (FreeAll (trees vs) × FreeAll (trees ls)) × Free e
  free-body [] [] e h = ((tt, tt), h)
  free-body [] (d ∷ ls) e h = ((tt, h.1.1.0.0.1.0), h.1.1.0.1.0.1.0)
  free-body (v ∷ vs) ls e h = let k = free-declaration (codes "let") ls _ h.1.1.0.1 in ((h.1.1.0.0.1.0, k.0), k.1.0.1.0)

  -- what is pending around
  pub record LedgerFree (s : Ledger) : Type 0 where
    pub pending : PendingFree (pending_in s)
    pub excluded : FreeAll (trees (top_in s).excluded)

  -- WHERE A RULE ACTS

  abbrev pub SpotFree : Spot → Type 0
  SpotFree (at_node t) = Free t
  SpotFree (at_beside bs t cs) = FreeAll (flanks_with bs t cs empty)
  SpotFree (at_list p x a ts) = FreeAll (whole_list p x a ts)
  SpotFree (at_body p t) = Free (written_body p t)
  SpotFree (at_trees us) = FreeAll us

  -- after a step: nothing that is sought, nothing pending, and no rest or spread where none was
  pub record SpotKept (x : Spot) (s' : Ledger) (y : Spot) : Type 0 where
    pub free : SpotFree y
    pub around : LedgerFree s'
    pub kind : (m : Bool) → is_part_spot m x ≡ false → is_part_spot m y ≡ false

  -- WHAT IS WRITTEN of what is pending, where no node of those kinds passes the test

  module _ (made : PassesNoMade T) where
    name-free : (b : Bound) → Free (identifier b)
    name-free b = (made Identifier _ _ refl, tt)

    declaration-free : (kind : Text) (ds : List Tree) (ts : Trees) → not (bytes_eq kind (codes "using")) ≡ true → FreeAll (trees ds) → FreeAll ts → FreeAll (declaration kind ds ts)
    declaration-free kind [] ts other h k = k
    declaration-free kind (d ∷ ds) ts other h k = ((made VariableDeclaration _ _ other, (h, tt)), k)

    this-free : (x : Option Bound) (ts : Trees) → FreeAll ts → FreeAll (with_this x ts)
    this-free None ts h = h
    this-free (Some b) ts h = ((made VariableDeclaration _ _ refl, (((made VariableDeclarator _ _ refl, (name-free b, ((made ThisExpression _ _ refl, tt), tt))), tt), tt)), h)

    imports-free : (is : List Import) → FreeAll (trees (map import_statement is))
    imports-free [] = tt
    imports-free (i ∷ is) = (import-free i.imported, imports-free is)
      where
        import-free : (n : Option Text) → Free (import_statement (record i { imported = n }))
        import-free None = (made ImportDeclaration _ _ refl, (((made ImportDefaultSpecifier _ _ refl, (name-free i.local, tt)), tt), ((made StringLiteral _ _ refl, tt), (tt, tt))))
        import-free (Some n) = (made ImportDeclaration _ _ refl, (((made ImportSpecifier _ _ refl, (name-free _, (name-free i.local, tt))), tt), ((made StringLiteral _ _ refl, tt), (tt, tt))))

    written-free : (p : Pending) (ts : Trees) → PendingFree p → FreeAll ts → FreeAll (written p ts)
    written-free p ts h k = declaration-free (codes "var") p.vars (declaration (codes "let") p.lets ts) refl h.vars (declaration-free (codes "let") p.lets ts refl h.lets k)

    pub whole-free : (p : Pending) (x : Option Bound) (a : Additions) (ts : Trees) → ListFree p a ts → FreeAll (whole_list p x a ts)
    whole-free p x a ts h =
        let imports = trees (map import_statement a.imports) in
        after-free (pending_statements p x a) ts
        (declaration-free (codes "const") a.excluded (with_this x (joined_trees imports (written p empty))) refl h.excluded
        (this-free x (joined_trees imports (written p empty)) (joined-free imports (written p empty) (imports-free a.imports) (written-free p empty h.pending tt)))) h.all

    returned-free : (e : Tree) → Free e → FreeAll (return_node e before empty)
    returned-free e h = ((made ReturnStatement _ _ refl, (h, tt)), tt)

    pub body-free : (vs ls : List Tree) (e : Tree) → FreeAll (trees vs) → FreeAll (trees ls) → Free e → Free (body_with vs ls e)
    body-free [] [] e a b h = h
    body-free [] (d ∷ ls) e a b h = (made FunctionBody _ _ refl, (tt, (declaration-free (codes "let") (d ∷ ls) (return_node e before empty) refl b (returned-free e h), tt)))
    body-free (v ∷ vs) ls e a b h = (made FunctionBody _ _ refl, (tt, (declaration-free (codes "var") (v ∷ vs) (declaration (codes "let") ls (return_node e before empty)) refl a (declaration-free (codes "let") ls (return_node e before empty) refl b (returned-free e h)), tt)))

    declarators-free : (bs : List Bound) → FreeAll (trees (map declarator bs))
    declarators-free [] = tt
    declarators-free (b ∷ bs) = ((made VariableDeclarator _ _ refl, (name-free b, (tt, tt))), declarators-free bs)

    pub vars-free : (bs : List Bound) (p : Pending) → PendingFree p → PendingFree (with_vars bs p)
    vars-free bs p h = record { vars = append-free p.vars (map declarator bs) h.vars (declarators-free bs); lets = h.lets }

-- IDS AND MARKS mean nothing

module _ (q : AstType → Bool) where
  kinds-bare : (ts : Trees) → any_kind q (bare_trees ts) ≡ any_kind q ts
  kinds-bare empty = refl
  kinds-bare (node k l fs before ts) = ap (λ b. q k || b) (kinds-bare ts)

  members-bare : (fs : Fields) → has_member q (field_at 0 (bare_fields fs)) ≡ has_member q (field_at 0 fs)
  members-bare done = refl
  members-bare (missing then fs) = refl
  members-bare (one t then fs) = refl
  members-bare (many ts then fs) = kinds-bare ts
  members-bare (statements ts then fs) = refl

rest-bare : (k : AstType) (l : Label) (fs : Fields) → is_object_rest k (bare_label l) (bare_fields fs) ≡ is_object_rest k l fs
rest-bare ObjectPattern l fs = members-bare is_rest fs
rest-bare ObjectTarget l fs = members-bare is_rest fs
rest-bare _ l fs = refl

spread-bare : (k : AstType) (l : Label) (fs : Fields) → is_object_spread k (bare_label l) (bare_fields fs) ≡ is_object_spread k l fs
spread-bare ObjectExpression l fs = members-bare is_spread fs
spread-bare _ l fs = refl

chain-bare : (k : AstType) (l : Label) (fs : Fields) → is_chain k (bare_label l) (bare_fields fs) ≡ is_chain k l fs
chain-bare ChainExpression l fs = refl
chain-bare _ l fs = refl

assignment-bare : (k : AstType) (l : Label) (fs : Fields) → is_any_logical_assignment k (bare_label l) (bare_fields fs) ≡ is_any_logical_assignment k l fs
assignment-bare AssignmentExpression l fs = refl
assignment-bare _ l fs = refl

power-bare : (k : AstType) (l : Label) (fs : Fields) → is_any_power k (bare_label l) (bare_fields fs) ≡ is_any_power k l fs
power-bare AssignmentExpression l fs = refl
power-bare BinaryExpression l fs = refl
power-bare _ l fs = refl

using-bare : (k : AstType) (l : Label) (fs : Fields) → is_using k (bare_label l) (bare_fields fs) ≡ is_using k l fs
using-bare VariableDeclaration l fs = refl
using-bare _ l fs = refl

module _ (c : Sought) where
  abbrev T : AstType → Label → Fields → Bool
  T = is_sought c

  own-bare : (k : AstType) (l : Label) (fs : Fields) → T k (bare_label l) (bare_fields fs) ≡ T k l fs
  own-bare k l fs = λ i.
      (rest-bare k l fs i && c.rests k)
      || (spread-bare k l fs i && c.spreads)
      || (chain-bare k l fs i && c.chains)
      || (assignment-bare k l fs i && c.assignments)
      || (power-bare k l fs i && c.powers)
      || (using-bare k l fs i && c.usings)

  mutual
    pub sought-bare : (t : Tree) → any_node T (bare t) ≡ any_node T t
    sought-bare (node k l fs) = λ i. own-bare k l fs i || sought-bare-in fs i

    sought-bare-in : (fs : Fields) → any_in_fields T (bare_fields fs) ≡ any_in_fields T fs
    sought-bare-in done = refl
    sought-bare-in (f then fs) = λ i. sought-bare-by f i || sought-bare-in fs i

    sought-bare-by : (f : Field) → any_in_field T (bare_field f) ≡ any_in_field T f
    sought-bare-by missing = refl
    sought-bare-by (one t) = sought-bare t
    sought-bare-by (many ts) = sought-bare-all ts
    sought-bare-by (statements ts) = sought-bare-all ts

    sought-bare-all : (ts : Trees) → any_in_trees T (bare_trees ts) ≡ any_in_trees T ts
    sought-bare-all empty = refl
    sought-bare-all (t before ts) = λ i. sought-bare t i || sought-bare-all ts i

  placed-own : (m : Label) (k : AstType) (l : Label) (fs : Fields) → T k l fs ≡ T k (record l { start = m.start; stop = m.stop }) fs
  placed-own m AssignmentExpression l fs = refl
  placed-own m BinaryExpression l fs = refl
  placed-own m ObjectPattern l fs = refl
  placed-own m ObjectTarget l fs = refl
  placed-own m ObjectExpression l fs = refl
  placed-own m ChainExpression l fs = refl
  placed-own m _ l fs = refl

  pub placed-free : (m : Label) (t : Tree) → Free T t → Free T (placed m t)
  placed-free m (node k l fs) h = (sym (placed-own m k l fs) ∙ h.0, h.1)

  pub sought-made : PassesNoMade T
  sought-made AssignmentExpression l fs h = absurd (cc h)
  sought-made BinaryExpression l fs h = absurd (cc h)
  sought-made ChainExpression l fs h = absurd (cc h)
  sought-made ObjectExpression l fs h = absurd (cc h)
  sought-made ObjectPattern l fs h = absurd (cc h)
  sought-made ObjectTarget l fs h = absurd (cc h)
  sought-made VariableDeclaration l fs h = off-too (bytes_eq (first_text l.texts) (codes "using")) c.usings h
    where
      off-too : (b o : Bool) → not b ≡ true → (b && o) ≡ false
      off-too true o e = absurd (cc e)
      off-too false o e = refl
  sought-made _ l fs h = refl
