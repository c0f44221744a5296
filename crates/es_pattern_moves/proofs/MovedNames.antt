-- Names that stand in trees whose patterns move: those that the patterns bind are the same, and made names are none of them.
use Rattle.std.proofs.Common.{◌≡◌, ◌∙◌, ℕ, zero, suc, refl, sym, ap, subst, List, [], ◌∷◌, ◌++◌, true≢false}
use Rattle.std.specs.Prelude.{Bool, true, false, ◌||◌, ◌+◌, bytes_eq, if◌then◌else◌}
use Rattle.std.specs.List.{list_any}
use Rattle.std.proofs.lemmas.Bool.{false_from_ne_true, or_from, or_parts}
use Rattle.std.proofs.lemmas.Slice.Eq.{bytes_eq-Decides}
use Rattle.es_tree.specs.BoundNames.{bound_identifiers, bound_in_field, bound_in_fields, bound_in_first, bound_in_second, bound_in_trees}
use Rattle.es_tree.specs.Names.{first_text, is_name_place}
use Rattle.es_tree.specs.Tree.{Tree, node, Label, Fields, done, ◌then◌, Field, missing, one, many, statements, Trees, empty, ◌before◌, label_of}
use Rattle.es_tree.specs.Words.{Text}
use Rattle.es_tree.specs.declared.ast_type.AstType.{AstType}
use Rattle.es_tree.specs.declared.ast_type.AstType.TheVariants.{ArrayPattern, ArrowFunctionExpression, AssignmentPattern, CatchClause, ForInStatement, ForOfStatement, FunctionDeclaration, FunctionExpression, Identifier, ObjectPattern, PatternProperty, RestElement}
use Rattle.es_resolution.specs.Named.{Named, NamedAll, NamedBy, NamedIn}
use Rattle.es_semantic.specs.RolesOf.{role_at}
use Rattle.es_semantic.specs.declared.place.Binding.{Binding}
use Rattle.es_semantic.specs.declared.place.Role.{Role}
use Rattle.es_semantic.specs.declared.place.Role.TheVariants.{Binds}
use Rattle.es_steps.specs.Nodes.{joined_trees}
use Rattle.es_rest_rows.specs.RestRows.{binds_name}
use Rattle.es_rest_shapes.specs.RestShapes.{any_tree}
use Rattle.es_pattern_moves.specs.Moved.{Makes, count_here, moved, moved_among, moved_by, moved_fields, moved_here, moved_in}
use Rattle.es_pattern_moves.specs.PatternMoves.{body_declares, moves_pattern, own_stands, pattern_of, stands_among, stands_if, stands_in_field, stands_in_fields, top_declares, var_among}

-- NAMES THAT A PATTERN BINDS

module _ (x : Text) where
  abbrev has_it : Tree → Bool
  has_it t = bytes_eq (first_text (label_of t).texts) x

  trees-append : (ts us : List Tree) → list_any has_it (ts ++ us) ≡ (list_any has_it ts || list_any has_it us)
  trees-append [] us = refl
  trees-append (t ∷ ts) us = at (has_it t) (trees-append ts us)
    where
      at : (b : Bool) → list_any has_it (ts ++ us) ≡ (list_any has_it ts || list_any has_it us) → (b || list_any has_it (ts ++ us)) ≡ ((b || list_any has_it ts) || list_any has_it us)
      at true e = refl
      at false e = e

  both-none : (ts us : List Tree) → list_any has_it ts ≡ false → list_any has_it us ≡ false → list_any has_it (ts ++ us) ≡ false
  both-none ts us e d = trees-append ts us ∙ or_from (list_any has_it ts) (list_any has_it us) e d

  both-same : (ts us vs ws : List Tree) → list_any has_it vs ≡ list_any has_it ts → list_any has_it ws ≡ list_any has_it us → list_any has_it (vs ++ ws) ≡ list_any has_it (ts ++ us)
  both-same ts us vs ws e d = trees-append vs ws ∙ (λ i. e i || d i) ∙ sym (trees-append ts us)

  -- are in use where those that stand in it are
  module _ (in_use : Text → Bool) (free : ℕ) (b : Binding) (fresh : in_use x ≡ false) where
    other-name : (y : Text) → in_use y ≡ true → bytes_eq y x ≡ false
    other-name y e = false_from_ne_true (bytes_eq y x) (λ h. true≢false (sym e ∙ ap in_use ((bytes_eq-Decides y x).0 h) ∙ fresh))

    mutual
      binds-named : (t : Tree) → Named in_use free (Binds b) t → list_any has_it (bound_identifiers t) ≡ false
      binds-named (node Identifier l fs) h = or_from (bytes_eq (first_text l.texts) x) false (other-name (first_text l.texts) h.0.0) refl
      binds-named (node ObjectPattern l fs) h = first-named (role_at (Binds b) ObjectPattern l fs) fs refl h.1
      binds-named (node PatternProperty l fs) h = second-named (role_at (Binds b) PatternProperty l fs) fs refl h.1
      binds-named (node ArrayPattern l fs) h = in-named (role_at (Binds b) ArrayPattern l fs) fs (λ i. refl) h.1
      binds-named (node AssignmentPattern l fs) h = first-named (role_at (Binds b) AssignmentPattern l fs) fs refl h.1
      binds-named (node RestElement l fs) h = first-named (role_at (Binds b) RestElement l fs) fs refl h.1
      binds-named (node _ l fs) h = refl

      first-named : (roles : ℕ → Role) (fs : Fields) → roles zero ≡ Binds b → NamedIn in_use free roles fs → list_any has_it (bound_in_first fs) ≡ false
      first-named roles done e h = refl
      first-named roles (f then fs) e h = by-named (roles zero) f e h.0

      second-named : (roles : ℕ → Role) (fs : Fields) → roles (suc zero) ≡ Binds b → NamedIn in_use free roles fs → list_any has_it (bound_in_second fs) ≡ false
      second-named roles done e h = refl
      second-named roles (f then fs) e h = first-named (λ i. roles (suc i)) fs e h.1

      in-named : (roles : ℕ → Role) (fs : Fields) → ((i : ℕ) → roles i ≡ Binds b) → NamedIn in_use free roles fs → list_any has_it (bound_in_fields fs) ≡ false
      in-named roles done e h = refl
      in-named roles (f then fs) e h = both-none (bound_in_field f) (bound_in_fields fs) (by-named (roles zero) f (e zero) h.0) (in-named (λ i. roles (suc i)) fs (λ i. e (suc i)) h.1)

      by-named : (r : Role) (f : Field) → r ≡ Binds b → NamedBy in_use free r f → list_any has_it (bound_in_field f) ≡ false
      by-named r missing e h = refl
      by-named r (one t) e h = binds-named t (subst (λ (q : Role). Named in_use free q t) e h)
      by-named r (many ts) e h = all-named ts (subst (λ (q : Role). NamedAll in_use free q ts) e h)
      by-named r (statements ts) e h = all-named ts (subst (λ (q : Role). NamedAll in_use free q ts) e h)

      all-named : (ts : Trees) → NamedAll in_use free (Binds b) ts → list_any has_it (bound_in_trees ts) ≡ false
      all-named empty h = refl
      all-named (t before ts) h = both-none (bound_identifiers t) (bound_in_trees ts) (binds-named t h.0) (all-named ts h.1)

    -- also a parameter's
    pub parameter-named : (t : Tree) → Named in_use free (Binds b) t → binds_name x (pattern_of t) ≡ false
    parameter-named (node AssignmentPattern l (one p then fs)) h = binds-named p h.1.0
    parameter-named t h = binds-named t h

  -- and stay the same
  module _ (m : Makes) where
    abbrev BindsNone : ℕ × Tree → Type 0
    BindsNone r = list_any has_it (bound_identifiers r.1) ≡ false

    here-none : (n : ℕ) (k : AstType) (l : Label) (fs : Fields) → ((gs : Fields) → list_any has_it (bound_identifiers (node k l gs)) ≡ false) → BindsNone (moved_here m n k l fs)
    here-none n k l fs none = at (moves_pattern k l fs)
      where
        at : (b : Bool) → BindsNone (if b then (n + count_here k fs, node k l (moved_fields m n k fs)) else (n, node k l fs))
        at true = none (moved_fields m n k fs)
        at false = none fs

    mutual
      binds-moved : (n : ℕ) (t : Tree) → list_any has_it (bound_identifiers (moved m n t).1) ≡ list_any has_it (bound_identifiers t)
      binds-moved n (node Identifier l fs) = refl
      binds-moved n (node ObjectPattern l fs) = first-moved n fs
      binds-moved n (node PatternProperty l fs) = second-moved n fs
      binds-moved n (node ArrayPattern l fs) = in-moved n fs
      binds-moved n (node AssignmentPattern l fs) = first-moved n fs
      binds-moved n (node RestElement l fs) = first-moved n fs
      binds-moved n (node CatchClause l fs) = here-none (moved_in m n fs).0 CatchClause l (moved_in m n fs).1 (λ gs. refl)
      binds-moved n (node ForInStatement l fs) = here-none (moved_in m n fs).0 ForInStatement l (moved_in m n fs).1 (λ gs. refl)
      binds-moved n (node ForOfStatement l fs) = here-none (moved_in m n fs).0 ForOfStatement l (moved_in m n fs).1 (λ gs. refl)
      binds-moved n (node FunctionDeclaration l fs) = here-none (moved_in m n fs).0 FunctionDeclaration l (moved_in m n fs).1 (λ gs. refl)
      binds-moved n (node FunctionExpression l fs) = here-none (moved_in m n fs).0 FunctionExpression l (moved_in m n fs).1 (λ gs. refl)
      binds-moved n (node ArrowFunctionExpression l fs) = here-none (moved_in m n fs).0 ArrowFunctionExpression l (moved_in m n fs).1 (λ gs. refl)
      binds-moved n (node _ l fs) = refl

      first-moved : (n : ℕ) (fs : Fields) → list_any has_it (bound_in_first (moved_in m n fs).1) ≡ list_any has_it (bound_in_first fs)
      first-moved n done = refl
      first-moved n (f then fs) = by-moved n f

      second-moved : (n : ℕ) (fs : Fields) → list_any has_it (bound_in_second (moved_in m n fs).1) ≡ list_any has_it (bound_in_second fs)
      second-moved n done = refl
      second-moved n (f then fs) = first-moved (moved_by m n f).0 fs

      in-moved : (n : ℕ) (fs : Fields) → list_any has_it (bound_in_fields (moved_in m n fs).1) ≡ list_any has_it (bound_in_fields fs)
      in-moved n done = refl
      in-moved n (f then fs) = both-same (bound_in_field f) (bound_in_fields fs) (bound_in_field (moved_by m n f).1) (bound_in_fields (moved_in m (moved_by m n f).0 fs).1) (by-moved n f) (in-moved (moved_by m n f).0 fs)

      by-moved : (n : ℕ) (f : Field) → list_any has_it (bound_in_field (moved_by m n f).1) ≡ list_any has_it (bound_in_field f)
      by-moved n missing = refl
      by-moved n (one t) = binds-moved n t
      by-moved n (many ts) = among-moved n ts
      by-moved n (statements ts) = among-moved n ts

      among-moved : (n : ℕ) (ts : Trees) → list_any has_it (bound_in_trees (moved_among m n ts).1) ≡ list_any has_it (bound_in_trees ts)
      among-moved n empty = refl
      among-moved n (t before ts) = both-same (bound_identifiers t) (bound_in_trees ts) (bound_identifiers (moved m n t).1) (bound_in_trees (moved_among m (moved m n t).0 ts).1) (binds-moved n t) (among-moved (moved m n t).0 ts)

    abbrev PatternNone : ℕ × Tree → Type 0
    PatternNone r = binds_name x (pattern_of r.1) ≡ false

    pattern-none : (n : ℕ) (k : AstType) (l : Label) (fs : Fields) → ((gs : Fields) → binds_name x (pattern_of (node k l gs)) ≡ false) → PatternNone (moved_here m n k l fs)
    pattern-none n k l fs none = at (moves_pattern k l fs)
      where
        at : (b : Bool) → PatternNone (if b then (n + count_here k fs, node k l (moved_fields m n k fs)) else (n, node k l fs))
        at true = none (moved_fields m n k fs)
        at false = none fs

    pub parameter-moved : (n : ℕ) (t : Tree) → binds_name x (pattern_of (moved m n t).1) ≡ binds_name x (pattern_of t)
    parameter-moved n (node AssignmentPattern l (one p then fs)) = binds-moved n p
    parameter-moved n (node AssignmentPattern l (missing then fs)) = binds-moved n (node AssignmentPattern l (missing then fs))
    parameter-moved n (node AssignmentPattern l (many ts then fs)) = binds-moved n (node AssignmentPattern l (many ts then fs))
    parameter-moved n (node AssignmentPattern l (statements ts then fs)) = binds-moved n (node AssignmentPattern l (statements ts then fs))
    parameter-moved n (node AssignmentPattern l done) = refl
    parameter-moved n (node CatchClause l fs) = pattern-none (moved_in m n fs).0 CatchClause l (moved_in m n fs).1 (λ gs. refl)
    parameter-moved n (node ForInStatement l fs) = pattern-none (moved_in m n fs).0 ForInStatement l (moved_in m n fs).1 (λ gs. refl)
    parameter-moved n (node ForOfStatement l fs) = pattern-none (moved_in m n fs).0 ForOfStatement l (moved_in m n fs).1 (λ gs. refl)
    parameter-moved n (node FunctionDeclaration l fs) = pattern-none (moved_in m n fs).0 FunctionDeclaration l (moved_in m n fs).1 (λ gs. refl)
    parameter-moved n (node FunctionExpression l fs) = pattern-none (moved_in m n fs).0 FunctionExpression l (moved_in m n fs).1 (λ gs. refl)
    parameter-moved n (node ArrowFunctionExpression l fs) = pattern-none (moved_in m n fs).0 ArrowFunctionExpression l (moved_in m n fs).1 (λ gs. refl)
    parameter-moved n (node k l fs) = binds-moved n (node k l fs)

-- NAMES THAT STAND in a tree

module _ (test other third : Text → Bool) (neither : (x : Text) → test x ≡ false → other x ≡ false → third x ≡ false) where
  own-neither : (counts : Bool) (k : AstType) (l : Label) → own_stands test counts k l ≡ false → own_stands other counts k l ≡ false → own_stands third counts k l ≡ false
  own-neither true Identifier l e d = neither (first_text l.texts) e d
  own-neither counts k l e d = refl

  mutual
    -- what passes neither test
    pub stands-neither : (counts : Bool) (t : Tree) → stands_if test counts t ≡ false → stands_if other counts t ≡ false → stands_if third counts t ≡ false
    stands-neither counts (node k l fs) e d =
        let first = or_parts (own_stands test counts k l) (stands_in_fields test (is_name_place k l) fs) e in
        let second = or_parts (own_stands other counts k l) (stands_in_fields other (is_name_place k l) fs) d in
        or_from (own_stands third counts k l) (stands_in_fields third (is_name_place k l) fs) (own-neither counts k l first.0 second.0) (in-neither (is_name_place k l) fs first.1 second.1)

    in-neither : (counts : ℕ → Bool) (fs : Fields) → stands_in_fields test counts fs ≡ false → stands_in_fields other counts fs ≡ false → stands_in_fields third counts fs ≡ false
    in-neither counts done e d = refl
    in-neither counts (f then fs) e d =
        let first = or_parts (stands_in_field test (counts zero) f) (stands_in_fields test (λ i. counts (suc i)) fs) e in
        let second = or_parts (stands_in_field other (counts zero) f) (stands_in_fields other (λ i. counts (suc i)) fs) d in
        or_from (stands_in_field third (counts zero) f) (stands_in_fields third (λ i. counts (suc i)) fs) (by-neither (counts zero) f first.0 second.0) (in-neither (λ i. counts (suc i)) fs first.1 second.1)

    by-neither : (counts : Bool) (f : Field) → stands_in_field test counts f ≡ false → stands_in_field other counts f ≡ false → stands_in_field third counts f ≡ false
    by-neither counts missing e d = refl
    by-neither counts (one t) e d = stands-neither counts t e d
    by-neither counts (many ts) e d = among-neither ts e d
    by-neither counts (statements ts) e d = among-neither ts e d

    pub among-neither : (ts : Trees) → stands_among test ts ≡ false → stands_among other ts ≡ false → stands_among third ts ≡ false
    among-neither empty e d = refl
    among-neither (t before ts) e d =
        let first = or_parts (stands_if test true t) (stands_among test ts) e in
        let second = or_parts (stands_if other true t) (stands_among other ts) d in
        or_from (stands_if third true t) (stands_among third ts) (stands-neither true t first.0 second.0) (among-neither ts first.1 second.1)

-- where no name passes a test, none stands
module _ (test : Text → Bool) (never : (x : Text) → test x ≡ false) where
  own-never : (counts : Bool) (k : AstType) (l : Label) → own_stands test counts k l ≡ false
  own-never true Identifier l = never (first_text l.texts)
  own-never counts k l = refl

  mutual
    stands-never : (counts : Bool) (t : Tree) → stands_if test counts t ≡ false
    stands-never counts (node k l fs) = or_from (own_stands test counts k l) (stands_in_fields test (is_name_place k l) fs) (own-never counts k l) (in-never (is_name_place k l) fs)

    in-never : (counts : ℕ → Bool) (fs : Fields) → stands_in_fields test counts fs ≡ false
    in-never counts done = refl
    in-never counts (f then fs) = or_from (stands_in_field test (counts zero) f) (stands_in_fields test (λ i. counts (suc i)) fs) (by-never (counts zero) f) (in-never (λ i. counts (suc i)) fs)

    by-never : (counts : Bool) (f : Field) → stands_in_field test counts f ≡ false
    by-never counts missing = refl
    by-never counts (one t) = stands-never counts t
    by-never counts (many ts) = among-never ts
    by-never counts (statements ts) = among-never ts

    pub among-never : (ts : Trees) → stands_among test ts ≡ false
    among-never empty = refl
    among-never (t before ts) = or_from (stands_if test true t) (stands_among test ts) (stands-never true t) (among-never ts)

-- in a list after another
pub among-joined : (test : Text → Bool) (a c : Trees) → stands_among test a ≡ false → stands_among test c ≡ false → stands_among test (joined_trees a c) ≡ false
among-joined test empty c e d = d
among-joined test (t before a) c e d =
    let parts = or_parts (stands_if test true t) (stands_among test a) e in
    or_from (stands_if test true t) (stands_among test (joined_trees a c)) parts.0 (among-joined test a c parts.1 d)

pub among-first : (test : Text → Bool) (a c : Trees) → stands_among test (joined_trees a c) ≡ false → (stands_among test a ≡ false) × (stands_among test c ≡ false)
among-first test empty c e = (refl, e)
among-first test (t before a) c e =
    let parts = or_parts (stands_if test true t) (stands_among test (joined_trees a c)) e in
    let rest = among-first test a c parts.1 in
    (or_from (stands_if test true t) (stands_among test a) parts.0 rest.0, rest.1)

pub any-joined : (p : Tree → Bool) (a c : Trees) → any_tree p a ≡ false → any_tree p c ≡ false → any_tree p (joined_trees a c) ≡ false
any-joined p empty c e d = d
any-joined p (t before a) c e d =
    let parts = or_parts (p t) (any_tree p a) e in
    or_from (p t) (any_tree p (joined_trees a c)) parts.0 (any-joined p a c parts.1 d)

vars-joined : (x : Text) (a c : Trees) → var_among x a ≡ false → var_among x c ≡ false → var_among x (joined_trees a c) ≡ false
vars-joined x empty c e d = d
vars-joined x (t before a) c e d =
    let parts = or_parts _ (var_among x a) e in
    or_from _ (var_among x (joined_trees a c)) parts.0 (vars-joined x a c parts.1 d)

-- what the statements of both declare
pub body-joined : (x : Text) (a c : Trees) → body_declares a x ≡ false → body_declares c x ≡ false → body_declares (joined_trees a c) x ≡ false
body-joined x a c e d =
    let first = or_parts (any_tree (top_declares x) a) (var_among x a) e in
    let second = or_parts (any_tree (top_declares x) c) (var_among x c) d in
    or_from (any_tree (top_declares x) (joined_trees a c)) (var_among x (joined_trees a c)) (any-joined (top_declares x) a c first.0 second.0) (vars-joined x a c first.1 second.1)
