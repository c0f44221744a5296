-- Parameters move one after the other: rows of the walk lead from a function to the same with all its patterns moved.
use Rattle.std.proofs.Common.{◌≡◌, ◌∙◌, ◌≤◌, ◌<◌, ℕ, suc, refl, sym, ap, arith, subst, length, List, [], ◌∷◌, ◌++◌}
use Rattle.std.specs.Prelude.{Bool, true, false, ◌&&◌, ◌||◌, ◌+◌, not, Option, Some, bytes_eq, codes, is_some, if◌then◌else◌}
use Rattle.std.proofs.lemmas.Bool.{and_parts, or_from, or_parts}
use Rattle.es_tree.specs.Fresh.{IsFreshName}
use Rattle.es_tree.specs.Names.{first_text}
use Rattle.es_tree.specs.Tree.{Tree, node, done, ◌then◌, one, many, Trees, empty, ◌before◌}
use Rattle.es_tree.specs.Words.{Text}
use Rattle.es_tree.specs.declared.ast_type.AstType.TheVariants.{AssignmentPattern, Identifier, ObjectPattern, VariableDeclaration, VariableDeclarator}
use Rattle.es_resolution.specs.Declarations.{Bound, sought}
use Rattle.es_resolution.specs.Resolved.{bound_by}
use Rattle.es_resolution.proofs.Basics.{bytes_eq-self}
use Rattle.es_semantic.specs.RolesOf.{reads}
use Rattle.es_steps.specs.Nodes.{identifier, joined_trees}
use Rattle.es_steps.specs.Open.{Additions, Pending, opened}
use Rattle.es_steps.specs.ParameterPatterns.{HoldsPattern, are_moved, is_moved}
use Rattle.es_steps.specs.ParameterPatterns.HoldsPattern.{alone, with_default}
use Rattle.es_steps.specs.Patterns.{IsSilent, let_statement}
use Rattle.es_steps.specs.Rules.{next_name, with_made}
use Rattle.es_steps.specs.Steps.{Site, Step, Steps, Whole, ledger}
use Rattle.es_steps.specs.Steps.Spot.{at_node}
use Rattle.es_steps.specs.Steps.Step.{acts}
use Rattle.es_steps.specs.Steps.Steps.{goes, stays}
use Rattle.es_rest_rows.specs.RestRows.{binds_name}
use Rattle.es_rest_shapes.specs.RestShapes.{any_tree, is_plain_pattern}
use Rattle.es_pattern_moves.specs.MoveRows.{MoveWalkRow, MovesOne}
use Rattle.es_pattern_moves.specs.MoveRows.MovesOne.{moves_one}
use Rattle.es_pattern_moves.specs.Moved.{Makes, all_declared, all_named, count_rests, declares, name_of, named, with_symbols}
use Rattle.es_pattern_moves.specs.PatternMoves.{all_may_move, are_later, binds_let, body_declares, declared_later, default_apart, is_rest_parameter, may_move, meets_among, pattern_of, stands, stands_among, stands_if, var_declares}
use Rattle.es_pattern_moves.proofs.MovedNames.{among-first, among-joined, among-neither, any-joined, body-joined, stands-neither}
use Rattle.es_pattern_moves.proofs.MovedSupply.{At, at-next, bound, is-bound, is-fresh, is-new, taking}

-- SIX TESTS

record Six (p q r s t u : Bool) : Type 0 where
  first : p ≡ true
  second : q ≡ true
  third : r ≡ true
  fourth : s ≡ true
  fifth : t ≡ true
  sixth : u ≡ true

six-parts : (p q r s t u : Bool) → (p && q && r && s && t && u) ≡ true → Six p q r s t u
six-parts true true true true true true h = record { first = refl; second = refl; third = refl; fourth = refl; fifth = refl; sixth = refl }
six-parts _ _ _ _ _ _ h = absurd (cc h)

six-from : (p q r s t u : Bool) → Six p q r s t u → (p && q && r && s && t && u) ≡ true
six-from p q r s t u f = rw (f.first, f.second, f.third, f.fourth, f.fifth, f.sixth) refl

not-so : (b : Bool) → not b ≡ true → b ≡ false
not-so true h = absurd (cc h)
not-so false h = refl

so-not : (b : Bool) → b ≡ false → not b ≡ true
so-not b h = rw h refl

-- LISTS

pub joined-one : (a : Trees) (t : Tree) (c : Trees) → joined_trees (joined_trees a (t before empty)) c ≡ joined_trees a (t before c)
joined-one empty t c = refl
joined-one (u before a) t c = ap (λ ts. u before ts) (joined-one a t c)

sought-more : (bs : List Bound) (b : Bound) (x : Text) → bound_by bs x ≡ true → bound_by (bs ++ (b ∷ [])) x ≡ true
sought-more [] b x h = absurd (cc h)
sought-more (c ∷ bs) b x h = at (bytes_eq c.name x) h (λ e. sought-more bs b x e)
  where
    at : (v : Bool) → is_some (if v then Some c.symbol else sought bs x) ≡ true → (bound_by bs x ≡ true → bound_by (bs ++ (b ∷ [])) x ≡ true) → is_some (if v then Some c.symbol else sought (bs ++ (b ∷ [])) x) ≡ true
    at true e f = refl
    at false e f = f e

sought-last : (bs : List Bound) (b : Bound) → bound_by (bs ++ (b ∷ [])) b.name ≡ true
sought-last [] b = rw (bytes_eq-self b.name) refl
sought-last (c ∷ bs) b = at (bytes_eq c.name b.name) (sought-last bs b)
  where
    at : (v : Bool) → bound_by (bs ++ (b ∷ [])) b.name ≡ true → is_some (if v then Some c.symbol else sought (bs ++ (b ∷ [])) b.name) ≡ true
    at true f = refl
    at false f = f

one-more : (bs : List Bound) (b : Bound) (t : Tree) → is_moved bs t ≡ true → is_moved (bs ++ (b ∷ [])) t ≡ true
one-more bs b (node VariableDeclaration l (many (node VariableDeclarator l' (one p then one (node Identifier m fs) then done) before empty) then done)) h = sought-more bs b (first_text m.texts) h
one-more bs b _ h = absurd (cc h)

all-more : (bs : List Bound) (b : Bound) (ts : Trees) → are_moved bs ts ≡ true → are_moved (bs ++ (b ∷ [])) ts ≡ true
all-more bs b empty h = refl
all-more bs b (t before ts) h = let parts = and_parts (is_moved bs t) (are_moved bs ts) h in rw (one-more bs b t parts.0, all-more bs b ts parts.1) refl

moved-joined : (bs : List Bound) (ts : Trees) (t : Tree) → are_moved bs ts ≡ true → is_moved bs t ≡ true → are_moved bs (joined_trees ts (t before empty)) ≡ true
moved-joined bs empty t h k = rw k refl
moved-joined bs (u before ts) t h k = let parts = and_parts (is_moved bs u) (are_moved bs ts) h in rw (parts.0, moved-joined bs ts t parts.1 k) refl

-- what is declared later, with more statements
later-joined : (x : Text) (c es ts : Trees) → body_declares es x ≡ false → declared_later c ts x ≡ false → declared_later c (joined_trees es ts) x ≡ false
later-joined x c es ts e d =
    let parts = or_parts (any_tree (binds_name x) c) (body_declares ts x) d in
    or_from (any_tree (binds_name x) c) (body_declares (joined_trees es ts) x) parts.0 (body-joined x es ts e parts.1)

module _ (names : List Text) (first : ℕ) (base : Text → Bool) where
  abbrev m : Makes
  m = with_symbols names first

  -- A PARAMETER of a function that has form, whose names are in use

  abbrev pub SilentDefault : Tree → Type 0
  SilentDefault (node AssignmentPattern l (one p then one d then done)) = IsSilent reads d
  SilentDefault t = Unit {0}

  pub record IsReady (t : Tree) : Type 0 where
    pub silent : SilentDefault t
    pub quiet : (x : Text) → var_declares x (pattern_of t) ≡ false
    pub used : (x : Text) → base x ≡ false → binds_name x (pattern_of t) ≡ false

  abbrev pub AreReady : Trees → Type 0
  AreReady empty = Unit {0}
  AreReady (t before ts) = IsReady t × AreReady ts

  -- what stays of it, with this name
  abbrev left : Bound → Tree → Tree
  left b (node AssignmentPattern l (one p then fs)) = node AssignmentPattern l (one (identifier b) then fs)
  left b t = identifier b

  left-named : (n : ℕ) (t : Tree) → left (bound names first base n) t ≡ named m n t
  left-named n (node AssignmentPattern l (one p then fs)) = refl
  left-named n t = refl

  plain-there : (t : Tree) → is_rest_parameter t ≡ true → is_plain_pattern (pattern_of t) ≡ true
  plain-there (node AssignmentPattern l (one p then one d then done)) h = h
  plain-there (node ObjectPattern l fs) h = h
  plain-there _ h = absurd (cc h)

  holds-there : (b : Bound) (t : Tree) → is_rest_parameter t ≡ true → SilentDefault t → HoldsPattern b (pattern_of t) t (left b t)
  holds-there b (node AssignmentPattern l (one p then one d then done)) h silent = with_default silent
  holds-there b (node ObjectPattern l fs) h silent = alone
  holds-there b _ h silent = absurd (cc h)

  named-none : (n : ℕ) (t : Tree) → is_rest_parameter t ≡ true → is_rest_parameter (named m n t) ≡ false
  named-none n (node AssignmentPattern l (one p then one d then done)) h = refl
  named-none n (node ObjectPattern l fs) h = refl
  named-none n _ h = absurd (cc h)

  named-stands : (test : Text → Bool) (n : ℕ) (t : Tree) → is_rest_parameter t ≡ true → test (name_of names n) ≡ false → stands_if test true t ≡ false → stands_if test true (named m n t) ≡ false
  named-stands test n (node AssignmentPattern l (one p then one d then done)) h new e = rw (new, (or_parts (stands_if test true p) (stands_if test true d || false) e).1) refl
  named-stands test n (node ObjectPattern l fs) h new e = rw new refl
  named-stands test n _ h new e = absurd (cc h)

  pattern-stands : (test : Text → Bool) (t : Tree) → stands_if test true t ≡ false → stands_if test true (pattern_of t) ≡ false
  pattern-stands test (node AssignmentPattern l (one p then fs)) e = (or_parts (stands_if test true p) _ e).0
  pattern-stands test t e = e

  -- the declaration of one declares its names, and no others
  declares-none : (x : Text) (n : ℕ) (p : Tree) → binds_name x p ≡ false → var_declares x p ≡ false → body_declares (declares m (codes "let") n p before empty) x ≡ false
  declares-none x n p e d = rw (e, d) refl

  -- WHAT STANDS BEFORE: in a are names where in b patterns that moved are, so that no more of the source's names stand in a
  abbrev Covers : Trees → Trees → Type 0
  Covers b a = (test : Text → Bool) → ((x : Text) → base x ≡ false → test x ≡ false) → stands_among test b ≡ false → stands_among test a ≡ false

  covers-same : (b a : Trees) (t : Tree) → Covers b a → Covers (joined_trees b (t before empty)) (joined_trees a (t before empty))
  covers-same b a t cover test new e = let parts = among-first test b (t before empty) e in among-joined test a (t before empty) (cover test new parts.0) parts.1

  covers-named : (b a : Trees) (n : ℕ) (t : Tree) → is_rest_parameter t ≡ true → base (name_of names n) ≡ false → Covers b a → Covers (joined_trees b (t before empty)) (joined_trees a (named m n t before empty))
  covers-named b a n t rest fresh cover test new e =
      let parts = among-first test b (t before empty) e in
      let it = (or_parts (stands_if test true t) false parts.1).0 in
      among-joined test a (named m n t before empty) (cover test new parts.0) (or_from (stands_if test true (named m n t)) false (named-stands test n t rest (new (name_of names n) fresh) it) refl)

  -- it may move, as things stand then
  may-then : (a b c es ts : Trees) (t : Tree) → IsReady t → Covers b a → stands_if (body_declares es) true t ≡ false → may_move b t c ts ≡ true → may_move a t c (joined_trees es ts) ≡ true
  may-then a b c es ts t ready cover apart may =
      let p : Tree = pattern_of t in
      let parts = six-parts (are_later c) (not (meets_among p b)) (not (meets_among p c)) (default_apart t) (not (binds_let p)) (not (stands (declared_later c ts) p)) may in
      let earlier = cover (λ x. binds_name x p) ready.used (not-so (meets_among p b) parts.second) in
      let later = stands-neither (body_declares es) (declared_later c ts) (declared_later c (joined_trees es ts)) (λ x e d. later-joined x c es ts e d) true p (pattern-stands (body_declares es) t apart) (not-so (stands (declared_later c ts) p) parts.sixth) in
      six-from (are_later c) (not (meets_among p a)) (not (meets_among p c)) (default_apart t) (not (binds_let p)) (not (stands (declared_later c (joined_trees es ts)) p))
      (record { first = parts.first; second = so-not (meets_among p a) earlier; third = parts.third; fourth = parts.fourth; fifth = parts.fifth; sixth = so-not (stands (declared_later c (joined_trees es ts)) p) later })

  later-apart : (b c ts : Trees) (t : Tree) → may_move b t c ts ≡ true → meets_among (pattern_of t) c ≡ false
  later-apart b c ts t may =
      let p : Tree = pattern_of t in
      not-so (meets_among p c) (six-parts (are_later c) (not (meets_among p b)) (not (meets_among p c)) (default_apart t) (not (binds_let p)) (not (stands (declared_later c ts) p)) may).third

  -- ROWS at a function, whose parameters and statements make it so
  module _ (n : Site) (build : Trees → Trees → Tree) (ts : Trees) where
    abbrev MakesRow : Type 0
    MakesRow = (w : Whole) (x : Text) (ps qs us vs : Trees) (q : Pending) (s : Option Bound) (y : Additions) → IsFreshName w.in_use (codes "ref") x → MovesOne w x ps qs us vs →
        MoveWalkRow n (ledger w q s y) (at_node (build ps us)) (ledger (with_made (next_name w x ∷ []) w) q s y) (at_node (build qs vs))

    pub record Rows (i : ℕ) (w : Whole) (ps us qs vs : Trees) : Type 0 where
      pub after : Whole
      pub there : At names first base after i
      pub steps : (q : Pending) (s : Option Bound) (y : Additions) → Steps (Step MoveWalkRow n) (ledger w q s y) (opened (build ps us)) (ledger after q s y) (opened (build qs vs))

    abbrev RowsFrom : Trees → Type 0
    RowsFrom c = (a b es : Trees) (i : ℕ) (w : Whole) → At names first base w i → i + count_rests c ≤ length names → any_tree is_rest_parameter a ≡ false → Covers b a → are_moved w.made es ≡ true → AreReady c → stands_among (body_declares es) c ≡ false → all_may_move b c ts ≡ true →
        Rows (i + count_rests c) w (joined_trees a c) (joined_trees es ts) (joined_trees a (all_named m i c)) (joined_trees es (joined_trees (all_declared m i c) ts))

    recast : (i j : ℕ) (w : Whole) (ps ps' us us' qs qs' vs vs' : Trees) → i ≡ j → ps ≡ ps' → us ≡ us' → qs ≡ qs' → vs ≡ vs' → Rows i w ps us qs vs → Rows j w ps' us' qs' vs'
    recast i j w ps ps' us us' qs qs' vs vs' d e f g h r = record {
      after = r.after;
      there = subst (λ (k : ℕ). At names first base r.after k) d r.there;
      steps = λ q s y. subst (λ (t : Tree). Steps (Step MoveWalkRow n) (ledger w q s y) (opened (build ps' us')) (ledger r.after q s y) (opened t)) (λ k. build (g k) (h k))
          (subst (λ (t : Tree). Steps (Step MoveWalkRow n) (ledger w q s y) (opened t) (ledger r.after q s y) (opened (build qs vs))) (λ k. build (e k) (f k)) (r.steps q s y));
    }

    module _ (row : MakesRow) where
      -- one that stays
      past : (t : Tree) (c : Trees) → RowsFrom c → is_rest_parameter t ≡ false → (a b es : Trees) (i : ℕ) (w : Whole) → At names first base w i → i + count_rests c ≤ length names → any_tree is_rest_parameter a ≡ false → Covers b a → are_moved w.made es ≡ true → AreReady (t before c) → stands_among (body_declares es) (t before c) ≡ false →
          all_may_move (joined_trees b (t before empty)) c ts ≡ true → Rows (i + count_rests c) w (joined_trees a (t before c)) (joined_trees es ts) (joined_trees a (t before all_named m i c)) (joined_trees es (joined_trees (all_declared m i c) ts))
      past t c rest plain a b es i w here le none cover moved ready apart may =
          let r = rest (joined_trees a (t before empty)) (joined_trees b (t before empty)) es i w here le (any-joined is_rest_parameter a (t before empty) none (or_from (is_rest_parameter t) false plain refl)) (covers-same b a t cover) moved ready.1 (or_parts (stands_if (body_declares es) true t) (stands_among (body_declares es) c) apart).1 may in
          recast (i + count_rests c) (i + count_rests c) w (joined_trees (joined_trees a (t before empty)) c) (joined_trees a (t before c)) (joined_trees es ts) (joined_trees es ts) (joined_trees (joined_trees a (t before empty)) (all_named m i c)) (joined_trees a (t before all_named m i c))
          (joined_trees es (joined_trees (all_declared m i c) ts)) (joined_trees es (joined_trees (all_declared m i c) ts)) refl (joined-one a t c) refl (joined-one a t (all_named m i c)) refl r

      -- one that moves
      over : (t : Tree) (c : Trees) → RowsFrom c → is_rest_parameter t ≡ true → (a b es : Trees) (i : ℕ) (w : Whole) → At names first base w i → i + suc (count_rests c) ≤ length names → any_tree is_rest_parameter a ≡ false → Covers b a → are_moved w.made es ≡ true → AreReady (t before c) → stands_among (body_declares es) (t before c) ≡ false →
          may_move b t c ts ≡ true → all_may_move (joined_trees b (t before empty)) c ts ≡ true →
          Rows (i + suc (count_rests c)) w (joined_trees a (t before c)) (joined_trees es ts) (joined_trees a (named m i t before all_named m (suc i) c)) (joined_trees es (declares m (codes "let") i (pattern_of t) before joined_trees (all_declared m (suc i) c) ts))
      over t c rest moves a b es i w here le none cover moved ready apart may later =
          let lt : i < length names = omega (arith, le) in
          let x : Text = name_of names i in
          let it : Bound = next_name w x in
          let p : Tree = pattern_of t in
          let u : Tree = named m i t in
          let d : Tree = declares m (codes "let") i p in
          let parts = or_parts (stands_if (body_declares es) true t) (stands_among (body_declares es) c) apart in
          let left-so : u ≡ left it t = sym (ap (λ (z : Bound). left z t) (is-bound names first base w i here lt) ∙ left-named i t) in
          let let-so : d ≡ let_statement p it = sym (ap (λ (z : Bound). let_statement p z) (is-bound names first base w i here lt)) in
          let one_row : MovesOne w x (joined_trees a (t before c)) (joined_trees a (left it t before c)) (joined_trees es ts) (joined_trees es (let_statement p it before ts)) =
          moves_one a c es ts p t (left it t) none (plain-there t moves) (holds-there it t moves ready.0.silent) moved (may-then a b c es ts t ready.0 cover parts.0 may) in
          let made-so : are_moved (taking names first base w i).made (joined_trees es (d before empty)) ≡ true = moved-joined (taking names first base w i).made es d (all-more w.made it es moved) (sought-last w.made it) in
          let out : stands_among (body_declares (joined_trees es (d before empty))) c ≡ false =
          among-neither (body_declares es) (λ y. binds_name y p) (body_declares (joined_trees es (d before empty))) (λ y e g. body-joined y es (d before empty) e (declares-none y i p g (ready.0.quiet y))) c parts.1 (later-apart b c ts t may) in
          let r = rest (joined_trees a (u before empty)) (joined_trees b (t before empty)) (joined_trees es (d before empty)) (suc i) (taking names first base w i) (at-next names first base w i here lt) (omega (arith, le)) (any-joined is_rest_parameter a (u before empty) none (or_from (is_rest_parameter u) false (named-none i t moves) refl))
          (covers-named b a i t moves (is-new names first base w i here lt) cover) made-so ready.1 out later in
          let after-it = recast (suc i + count_rests c) (i + suc (count_rests c)) (taking names first base w i) (joined_trees (joined_trees a (u before empty)) c) (joined_trees a (left it t before c)) (joined_trees (joined_trees es (d before empty)) ts) (joined_trees es (let_statement p it before ts))
          (joined_trees (joined_trees a (u before empty)) (all_named m (suc i) c)) (joined_trees a (u before all_named m (suc i) c)) (joined_trees (joined_trees es (d before empty)) (joined_trees (all_declared m (suc i) c) ts)) (joined_trees es (d before joined_trees (all_declared m (suc i) c) ts)) (omega arith)
          (joined-one a u c ∙ ap (λ (z : Tree). joined_trees a (z before c)) left-so) (joined-one es d ts ∙ ap (λ (z : Tree). joined_trees es (z before ts)) let-so) (joined-one a u (all_named m (suc i) c)) (joined-one es d (joined_trees (all_declared m (suc i) c) ts)) r in
          record {
            after = after-it.after;
            there = after-it.there;
            steps = λ q s y. goes {s'' = ledger after-it.after q s y} (acts (build (joined_trees a (t before c)) (joined_trees es ts)) (build (joined_trees a (left it t before c)) (joined_trees es (let_statement p it before ts))) (row w x (joined_trees a (t before c)) (joined_trees a (left it t before c)) (joined_trees es ts) (joined_trees es (let_statement p it before ts)) q s y (is-fresh names first base w i here lt) one_row)) (after-it.steps q s y);
          }

      either : (t : Tree) (c : Trees) → RowsFrom c → (v : Bool) → is_rest_parameter t ≡ v → (a b es : Trees) (i : ℕ) (w : Whole) → At names first base w i → i + (if v then suc (count_rests c) else count_rests c) ≤ length names → any_tree is_rest_parameter a ≡ false → Covers b a → are_moved w.made es ≡ true → AreReady (t before c) → stands_among (body_declares es) (t before c) ≡ false →
          ((not v || may_move b t c ts) && all_may_move (joined_trees b (t before empty)) c ts) ≡ true →
          Rows (i + (if v then suc (count_rests c) else count_rests c)) w (joined_trees a (t before c)) (joined_trees es ts) (joined_trees a (if v then named m i t before all_named m (suc i) c else t before all_named m i c))
          (joined_trees es (joined_trees (if v then declares m (codes "let") i (pattern_of t) before all_declared m (suc i) c else all_declared m i c) ts))
      either t c rest true e a b es i w here le none cover moved ready apart may =
          let parts = and_parts (may_move b t c ts) (all_may_move (joined_trees b (t before empty)) c ts) may in
          over t c rest e a b es i w here le none cover moved ready apart parts.0 parts.1
      either t c rest false e a b es i w here le none cover moved ready apart may = past t c rest e a b es i w here le none cover moved ready apart may

      pub rows : (c : Trees) → RowsFrom c
      rows empty a b es i w here le none cover moved ready apart may =
          let same : i ≡ i + 0 = omega arith in
          record { after = w; there = subst (λ (k : ℕ). At names first base w k) same here; steps = λ q s y. stays }
      rows (t before c) a b es i w here le none cover moved ready apart may = either t c (rows c) (is_rest_parameter t) refl a b es i w here le none cover moved ready apart may
