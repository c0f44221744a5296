-- Tests of nodes out of which a pattern moves, as the code has them, and as they are defined.
use Rattle.std.specs.Prelude.{◌&&◌, not}
use Rattle.std.proofs.Common.{◌≡◌, ◌∙◌, ◌<◌, refl, arith, sym, List, [], ◌∷◌, Bool, false, length}
use Rattle.es_tree.specs.Tree.{Tree, Trees, node, Label, Fields, done, ◌then◌, Field, missing, one, many, statements, empty, ◌before◌, trees}
use Rattle.es_tree.specs.Views.{plain_field, plain_fields}
use Rattle.es_tree.specs.declared.ast_type.AstType.TheVariants.{ObjectTarget, VariableDeclaration, VariableDeclarator}
use Rattle.es_tree.specs.declared.node.Field.{Field as NodeField}
use Rattle.es_pattern_moves.specs.PatternMoves.{binds_let, moves_from_arrow, moves_from_catch, moves_from_function, moves_from_head}
use Rattle.es_rest_nodes.specs.RestFields.{on_two}
use Rattle.es_rest_shapes.specs.RestShapes.{is_plain_pattern}
use Rattle.es_move_nodes.specs.MoveFields.{head_moves, moves_in_statements, on_three, only_moves, parts_move, three_move}

-- CATCH CLAUSES

pub catch-moves : (fs : Fields) → on_two (λ p b. is_plain_pattern p && not (binds_let p)) fs ≡ moves_from_catch fs
catch-moves (one p then one b then done) = refl
catch-moves (one p then one b then f then fs) = refl
catch-moves (one p then many ts then fs) = refl
catch-moves (one p then statements ts then fs) = refl
catch-moves (one p then missing then fs) = refl
catch-moves (one p then done) = refl
catch-moves (many ts then fs) = refl
catch-moves (statements ts then fs) = refl
catch-moves (missing then fs) = refl
catch-moves done = refl

-- HEADS OF LOOPS

no-pattern : (h : Tree) (fs : Fields) → ((e : Tree) → head_moves h e ≡ false) → three_move (one h then fs) ≡ false
no-pattern h (one e then one b then done) n = n e
no-pattern h (one e then one b then f then fs) n = refl
no-pattern h (one e then many ts then fs) n = refl
no-pattern h (one e then statements ts then fs) n = refl
no-pattern h (one e then missing then fs) n = refl
no-pattern h (one e then done) n = refl
no-pattern h (many ts then fs) n = refl
no-pattern h (statements ts then fs) n = refl
no-pattern h (missing then fs) n = refl
no-pattern h done n = refl

abbrev declaring : Label → Trees → Tree
declaring l ds = node VariableDeclaration l (many ds then done)

abbrev declarator : Label → Tree → Field → Tree
declarator m p f = node VariableDeclarator m (one p then f then done)

one-pattern : (l m : Label) (p : Tree) (fs : Fields) → three_move (one (declaring l (declarator m p missing before empty)) then fs) ≡ moves_from_head (one (declaring l (declarator m p missing before empty)) then fs)
one-pattern l m p (one e then one b then done) = refl
one-pattern l m p (one e then one b then f then fs) = refl
one-pattern l m p (one e then many ts then fs) = refl
one-pattern l m p (one e then statements ts then fs) = refl
one-pattern l m p (one e then missing then fs) = refl
one-pattern l m p (one e then done) = refl
one-pattern l m p (many ts then fs) = refl
one-pattern l m p (statements ts then fs) = refl
one-pattern l m p (missing then fs) = refl
one-pattern l m p done = refl

only-first : (l : Label) (d : Tree) (fs : Fields) → three_move (one (declaring l (d before empty)) then fs) ≡ moves_from_head (one (declaring l (d before empty)) then fs)
only-first l (node VariableDeclarator m (one p then missing then done)) fs = one-pattern l m p fs
only-first l (node VariableDeclarator m (one p then one v then done)) fs = no-pattern (declaring l (declarator m p (one v) before empty)) fs (λ e. refl)
only-first l (node VariableDeclarator m (one p then many vs then done)) fs = no-pattern (declaring l (declarator m p (many vs) before empty)) fs (λ e. refl)
only-first l (node VariableDeclarator m (one p then statements vs then done)) fs = no-pattern (declaring l (declarator m p (statements vs) before empty)) fs (λ e. refl)
only-first l d fs = no-pattern (declaring l (d before empty)) fs (λ e. refl)

more-declarators : (l : Label) (d u : Tree) (ds : Trees) (fs : Fields) → moves_from_head (one (declaring l (d before u before ds)) then fs) ≡ false
more-declarators l (node VariableDeclarator m (one p then missing then done)) u ds fs = refl
more-declarators l d u ds fs = refl

list-first : (l : Label) (ds : Trees) (fs : Fields) → three_move (one (declaring l ds) then fs) ≡ moves_from_head (one (declaring l ds) then fs)
list-first l empty fs = no-pattern (declaring l empty) fs (λ e. refl)
list-first l (d before empty) fs = only-first l d fs
list-first l (d before u before ds) fs = no-pattern (declaring l (d before u before ds)) fs (λ e. refl) ∙ sym (more-declarators l d u ds fs)

more-fields : (l : Label) (ds : Trees) (g : Field) (gs fs : Fields) → moves_from_head (one (node VariableDeclaration l (many ds then g then gs)) then fs) ≡ false
more-fields l (node VariableDeclarator m (one p then missing then done) before empty) g gs fs = refl
more-fields l ds g gs fs = refl

declaration-first : (l : Label) (gs fs : Fields) → three_move (one (node VariableDeclaration l gs) then fs) ≡ moves_from_head (one (node VariableDeclaration l gs) then fs)
declaration-first l (many ds then done) fs = list-first l ds fs
declaration-first l (many ds then g then gs) fs = no-pattern (node VariableDeclaration l (many ds then g then gs)) fs (λ e. refl) ∙ sym (more-fields l ds g gs fs)
declaration-first l (one t then gs) fs = no-pattern (node VariableDeclaration l (one t then gs)) fs (λ e. refl)
declaration-first l (statements ts then gs) fs = no-pattern (node VariableDeclaration l (statements ts then gs)) fs (λ e. refl)
declaration-first l (missing then gs) fs = no-pattern (node VariableDeclaration l (missing then gs)) fs (λ e. refl)
declaration-first l done fs = no-pattern (node VariableDeclaration l done) fs (λ e. refl)

target-first : (l : Label) (gs fs : Fields) → three_move (one (node ObjectTarget l gs) then fs) ≡ moves_from_head (one (node ObjectTarget l gs) then fs)
target-first l gs (one e then one b then done) = refl
target-first l gs (one e then one b then f then fs) = refl
target-first l gs (one e then many ts then fs) = refl
target-first l gs (one e then statements ts then fs) = refl
target-first l gs (one e then missing then fs) = refl
target-first l gs (one e then done) = refl
target-first l gs (many ts then fs) = refl
target-first l gs (statements ts then fs) = refl
target-first l gs (missing then fs) = refl
target-first l gs done = refl

head-first : (h : Tree) (fs : Fields) → three_move (one h then fs) ≡ moves_from_head (one h then fs)
head-first (node VariableDeclaration l gs) fs = declaration-first l gs fs
head-first (node ObjectTarget l gs) fs = target-first l gs fs
head-first h fs = no-pattern h fs (λ e. refl)

pub head-three : (fs : Fields) → three_move fs ≡ moves_from_head fs
head-three (one h then fs) = head-first h fs
head-three (many ts then fs) = refl
head-three (statements ts then fs) = refl
head-three (missing then fs) = refl
head-three done = refl

-- OTHER NUMBERS OF FIELDS

module _ (P : Tree → Tree → Tree → Bool) where
  second-alone : (t : Tree) (g : Field) → on_three P (one t then g then done) ≡ false
  second-alone t missing = refl
  second-alone t (one u) = refl
  second-alone t (many us) = refl
  second-alone t (statements us) = refl

  two-of-three : (f g : Field) → on_three P (f then g then done) ≡ false
  two-of-three (one t) g = second-alone t g
  two-of-three missing g = refl
  two-of-three (many ts) g = refl
  two-of-three (statements ts) g = refl

  one-of-three : (f : Field) → on_three P (f then done) ≡ false
  one-of-three missing = refl
  one-of-three (one t) = refl
  one-of-three (many ts) = refl
  one-of-three (statements ts) = refl

  four-fields : (f g h i : Field) (fs : Fields) → on_three P (f then g then h then i then fs) ≡ false
  four-fields (one t) (one u) (one v) i fs = refl
  four-fields (one t) (one u) missing i fs = refl
  four-fields (one t) (one u) (many vs) i fs = refl
  four-fields (one t) (one u) (statements vs) i fs = refl
  four-fields (one t) missing h i fs = refl
  four-fields (one t) (many us) h i fs = refl
  four-fields (one t) (statements us) h i fs = refl
  four-fields missing g h i fs = refl
  four-fields (many ts) g h i fs = refl
  four-fields (statements ts) g h i fs = refl

  pub fewer-than-three : (fs : List NodeField) → length fs < 3 → on_three P (plain_fields fs) ≡ false
  fewer-than-three [] h = refl
  fewer-than-three (f ∷ []) h = one-of-three (plain_field f)
  fewer-than-three (f ∷ g ∷ []) h = two-of-three (plain_field f) (plain_field g)
  fewer-than-three (f ∷ g ∷ i ∷ fs) h = absurd (omega (arith, h))

  pub more-than-three : (fs : List NodeField) → 3 < length fs → on_three P (plain_fields fs) ≡ false
  more-than-three [] h = absurd (omega (arith, h))
  more-than-three (f ∷ []) h = absurd (omega (arith, h))
  more-than-three (f ∷ g ∷ []) h = absurd (omega (arith, h))
  more-than-three (f ∷ g ∷ i ∷ []) h = absurd (omega (arith, h))
  more-than-three (f ∷ g ∷ i ∷ j ∷ fs) h = four-fields (plain_field f) (plain_field g) (plain_field i) (plain_field j) (plain_fields fs)

one-of-function : (f g : Field) → moves_from_function (f then g then done) ≡ false
one-of-function f missing = refl
one-of-function f (one u) = refl
one-of-function f (many us) = refl
one-of-function f (statements us) = refl

four-of-function : (f g h i : Field) (fs : Fields) → moves_from_function (f then g then h then i then fs) ≡ false
four-of-function f (many ps) (one b) i fs = refl
four-of-function f (many ps) missing i fs = refl
four-of-function f (many ps) (many ts) i fs = refl
four-of-function f (many ps) (statements ts) i fs = refl
four-of-function f missing h i fs = refl
four-of-function f (one t) h i fs = refl
four-of-function f (statements ts) h i fs = refl

pub short-function : (fs : List NodeField) → length fs < 3 → moves_from_function (plain_fields fs) ≡ false
short-function [] h = refl
short-function (f ∷ []) h = refl
short-function (f ∷ g ∷ []) h = one-of-function (plain_field f) (plain_field g)
short-function (f ∷ g ∷ i ∷ fs) h = absurd (omega (arith, h))

pub long-function : (fs : List NodeField) → 3 < length fs → moves_from_function (plain_fields fs) ≡ false
long-function [] h = absurd (omega (arith, h))
long-function (f ∷ []) h = absurd (omega (arith, h))
long-function (f ∷ g ∷ []) h = absurd (omega (arith, h))
long-function (f ∷ g ∷ i ∷ []) h = absurd (omega (arith, h))
long-function (f ∷ g ∷ i ∷ j ∷ fs) h = four-of-function (plain_field f) (plain_field g) (plain_field i) (plain_field j) (plain_fields fs)

one-of-arrow : (f : Field) → moves_from_arrow (f then done) ≡ false
one-of-arrow missing = refl
one-of-arrow (one t) = refl
one-of-arrow (many ts) = refl
one-of-arrow (statements ts) = refl

three-of-arrow : (f g h : Field) (fs : Fields) → moves_from_arrow (f then g then h then fs) ≡ false
three-of-arrow (many ps) (one b) h fs = refl
three-of-arrow (many ps) missing h fs = refl
three-of-arrow (many ps) (many ts) h fs = refl
three-of-arrow (many ps) (statements ts) h fs = refl
three-of-arrow missing g h fs = refl
three-of-arrow (one t) g h fs = refl
three-of-arrow (statements ts) g h fs = refl

pub short-arrow : (fs : List NodeField) → length fs < 2 → moves_from_arrow (plain_fields fs) ≡ false
short-arrow [] h = refl
short-arrow (f ∷ []) h = one-of-arrow (plain_field f)
short-arrow (f ∷ g ∷ fs) h = absurd (omega (arith, h))

pub long-arrow : (fs : List NodeField) → 2 < length fs → moves_from_arrow (plain_fields fs) ≡ false
long-arrow [] h = absurd (omega (arith, h))
long-arrow (f ∷ []) h = absurd (omega (arith, h))
long-arrow (f ∷ g ∷ []) h = absurd (omega (arith, h))
long-arrow (f ∷ g ∷ i ∷ fs) h = three-of-arrow (plain_field f) (plain_field g) (plain_field i) (plain_fields fs)

module _ (ps : Trees) where
  one-of-body : (f : Field) → moves_in_statements ps (f then done) ≡ false
  one-of-body missing = refl
  one-of-body (one t) = refl
  one-of-body (many ts) = refl
  one-of-body (statements ts) = refl

  three-of-body : (f g h : Field) (fs : Fields) → moves_in_statements ps (f then g then h then fs) ≡ false
  three-of-body (many ds) (statements ts) h fs = refl
  three-of-body (many ds) missing h fs = refl
  three-of-body (many ds) (many ts) h fs = refl
  three-of-body (many ds) (one t) h fs = refl
  three-of-body missing g h fs = refl
  three-of-body (one t) g h fs = refl
  three-of-body (statements ts) g h fs = refl

  pub short-body : (fs : List NodeField) → length fs < 2 → moves_in_statements ps (plain_fields fs) ≡ false
  short-body [] h = refl
  short-body (f ∷ []) h = one-of-body (plain_field f)
  short-body (f ∷ g ∷ fs) h = absurd (omega (arith, h))

  pub long-body : (fs : List NodeField) → 2 < length fs → moves_in_statements ps (plain_fields fs) ≡ false
  long-body [] h = absurd (omega (arith, h))
  long-body (f ∷ []) h = absurd (omega (arith, h))
  long-body (f ∷ g ∷ []) h = absurd (omega (arith, h))
  long-body (f ∷ g ∷ i ∷ fs) h = three-of-body (plain_field f) (plain_field g) (plain_field i) (plain_fields fs)

module _ (by_var : Bool) (e : Tree) where
  one-of-parts : (f : Field) → parts_move (f then done) by_var e ≡ false
  one-of-parts missing = refl
  one-of-parts (one t) = refl
  one-of-parts (many ts) = refl
  one-of-parts (statements ts) = refl

  three-of-parts : (f g h : Field) (fs : Fields) → parts_move (f then g then h then fs) by_var e ≡ false
  three-of-parts (one t) g h fs = refl
  three-of-parts missing g h fs = refl
  three-of-parts (many ts) g h fs = refl
  three-of-parts (statements ts) g h fs = refl

  pub short-parts : (fs : List NodeField) → length fs < 2 → parts_move (plain_fields fs) by_var e ≡ false
  short-parts [] h = refl
  short-parts (f ∷ []) h = one-of-parts (plain_field f)
  short-parts (f ∷ g ∷ fs) h = absurd (omega (arith, h))

  pub long-parts : (fs : List NodeField) → 2 < length fs → parts_move (plain_fields fs) by_var e ≡ false
  long-parts [] h = absurd (omega (arith, h))
  long-parts (f ∷ []) h = absurd (omega (arith, h))
  long-parts (f ∷ g ∷ []) h = absurd (omega (arith, h))
  long-parts (f ∷ g ∷ i ∷ fs) h = three-of-parts (plain_field f) (plain_field g) (plain_field i) (plain_fields fs)

  pub more-moves : (ds : List Tree) → 1 < length ds → only_moves (trees ds) by_var e ≡ false
  more-moves [] h = absurd (omega (arith, h))
  more-moves (d ∷ []) h = absurd (omega (arith, h))
  more-moves (d ∷ u ∷ ds) h = refl
