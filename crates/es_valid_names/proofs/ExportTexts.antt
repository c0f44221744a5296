-- The names that the visits of a program export are those that its statements export, in their order.
use Rattle.std.proofs.Common.{◌≡◌, ◌≤◌, ◌+◌, ◌==◌, ℕ, zero, suc, refl, sym, ap, ◌∙◌, List, [], ◌∷◌, ◌++◌, filter, map, arith}
use Rattle.std.specs.Prelude.{Bool, true, false, ◌&&◌, if◌then◌else◌}
use Rattle.std.proofs.lemmas.List.{append-nil, map-append}
use Rattle.es_tree.specs.Ancestors.{Ancestor, ancestor, visits, visits_in_field, visits_in_fields, visits_in_trees}
use Rattle.es_tree.specs.BoundNames.{bound_identifiers, bound_in_field, bound_in_fields, bound_in_trees}
use Rattle.es_tree.specs.DeclaredNames.{Name, bound_names, export_name, exported_names}
use Rattle.es_tree.specs.HasForm.{same_type}
use Rattle.es_tree.specs.Names.{first_text}
use Rattle.es_tree.specs.Tree.{Tree, node, Label, Fields, done, ◌then◌, Field, missing, one, many, statements, Trees, empty, ◌before◌, field_size, fields_of, kind_of, label_of, tree_size}
use Rattle.es_tree.specs.Words.{Text}
use Rattle.es_tree.specs.declared.ast_type.AstType.{AstType}
use Rattle.es_tree.specs.declared.ast_type.AstType.TheVariants.{ArrayPattern, AssignmentPattern, ExportNamedDeclaration, Identifier, ObjectPattern, PatternProperty, Program, RestElement}
use Rattle.es_semantic.proofs.FormEdges.{Edges, EdgesAll, EdgesBy, EdgesIn, is_last}
use Rattle.es_valid_steps.specs.PlaceRules.{Keeps, KeepsAll, KeepsBy, KeepsIn}
use Rattle.es_module_names.specs.Modules.{bound_texts, texts_among, texts_by}
use Rattle.es_valid_names.proofs.Claims.{push}
use Rattle.es_valid_names.proofs.ExportPlaces.{Quiet, expected, expects, exported-append, exported_in, exposes, filter-append, fits, is_exported, is_named_place, is_pattern, passes, quiet-at, quiet-in, silent-field, silent-fields}
use Rattle.es_valid_names.proofs.StandsFit.{one-zero, two-one}

-- exported under these texts
abbrev pub lists : List Text → List (List Name)
lists xs = map (λ x. export_name x) xs

abbrev pub texts_of : List Tree → List Text
texts_of ids = map (λ i. first_text (label_of i).texts) ids

pub lists-append : (xs ys : List Text) → lists (xs ++ ys) ≡ lists xs ++ lists ys
lists-append xs ys = map-append (λ x. export_name x) xs ys

of-append : (xs ys : List Tree) → lists (texts_of (xs ++ ys)) ≡ lists (texts_of xs) ++ lists (texts_of ys)
of-append xs ys = ap lists (map-append (λ i. first_text (label_of i).texts) xs ys) ∙ lists-append (texts_of xs) (texts_of ys)

-- FIELDS

-- where each node of a field exports what is read off it
each-trees : (up vp : List Ancestor) (k : AstType) (i : ℕ) (read : Tree → List Text) → ((s : ℕ) (last : Bool) (t : Tree) → Edges fits k i last t → Keeps vp t → exported_in (visits up s t) ≡ lists (read t)) → (s : ℕ) (ts : Trees) → EdgesAll fits k i ts → KeepsAll vp ts → exported_in (visits_in_trees up s ts) ≡ lists (texts_among read ts)
each-trees up vp k i read h s empty e r = refl
each-trees up vp k i read h s (t before ts) e r =
    exported-append (visits up s t) (visits_in_trees up (s + tree_size t) ts) ∙ (λ j. h s false t e.0 r.0 j ++ each-trees up vp k i read h (s + tree_size t) ts e.1 r.1 j) ∙ sym (lists-append (read t) (texts_among read ts))

pub each-field : (up vp : List Ancestor) (k : AstType) (i : ℕ) (read : Tree → List Text) → ((s : ℕ) (last : Bool) (t : Tree) → Edges fits k i last t → Keeps vp t → exported_in (visits up s t) ≡ lists (read t)) → (last : Bool) (s : ℕ) (f : Field) → EdgesBy fits k i last f → KeepsBy vp f → exported_in (visits_in_field up s f) ≡ lists (texts_by read f)
each-field up vp k i read h last s missing e r = refl
each-field up vp k i read h last s (one t) e r = h s last t e r
each-field up vp k i read h last s (many ts) e r = each-trees up vp k i read h s ts e r
each-field up vp k i read h last s (statements ts) e r = each-trees up vp k i read h s ts e r

module _ (up vp : List Ancestor) (k : AstType) (l : Label) (all : Fields) (n : ℕ) where
  -- a field, and others that export nothing
  pub with-rest : (i s : ℕ) (f : Field) (fs : Fields) (gs : List (List Name)) → exported_in (visits_in_field (ancestor k l all i n ∷ up) s f) ≡ gs → ((j : ℕ) → suc i ≤ j → Quiet up vp k l all n j) → EdgesIn fits k (suc i) fs → KeepsIn vp k l all (suc i) fs → exported_in (visits_in_fields up k l all n i s (f then fs)) ≡ gs
  with-rest i s f fs gs h q e r =
      exported-append (visits_in_field (ancestor k l all i n ∷ up) s f) (visits_in_fields up k l all n (suc i) (s + field_size f) fs)
      ∙ (λ j. h j ++ silent-fields up vp k l all n (suc i) (s + field_size f) fs q e r j)
      ∙ append-nil gs

  -- a field that exports nothing, and others
  pub behind-silent : (i s : ℕ) (f : Field) (fs : Fields) (gs : List (List Name)) → Quiet up vp k l all n i → EdgesBy fits k i (is_last fs) f → KeepsBy (ancestor k l all i 0 ∷ vp) f → exported_in (visits_in_fields up k l all n (suc i) (s + field_size f) fs) ≡ gs → exported_in (visits_in_fields up k l all n i s (f then fs)) ≡ gs
  behind-silent i s f fs gs q e r h =
      exported-append (visits_in_field (ancestor k l all i n ∷ up) s f) (visits_in_fields up k l all n (suc i) (s + field_size f) fs)
      ∙ (λ j. silent-field up vp k l all n i (is_last fs) s f q e r j ++ h j)

  pub later-quiet : same_type k Program ≡ false → (same_type k ExportNamedDeclaration) ≡ false → ((j : ℕ) → exposes (ancestor k l all (suc j) n) ≡ false) → ((j : ℕ) → passes (ancestor k l all (suc j) n) ≡ false) → (j : ℕ) → 1 ≤ j → Quiet up vp k l all n j
  later-quiet p u x h zero a = absurd (omega arith)
  later-quiet p u x h (suc j) a = quiet-at up vp k l all n (suc j) (x j) p (λ i. u i && suc j == 1) (λ d. absurd (cc (h j, d)))

  pub third-quiet : same_type k Program ≡ false → ((j : ℕ) → (same_type k ExportNamedDeclaration && suc (suc j) == 1) ≡ false) → ((j : ℕ) → exposes (ancestor k l all (suc (suc j)) n) ≡ false) → ((j : ℕ) → passes (ancestor k l all (suc (suc j)) n) ≡ false) → (j : ℕ) → 2 ≤ j → Quiet up vp k l all n j
  third-quiet p u x h zero a = absurd (omega arith)
  third-quiet p u x h (suc zero) a = absurd (omega arith)
  third-quiet p u x h (suc (suc j)) a = quiet-at up vp k l all n (suc (suc j)) (x j) p (u j) (λ d. absurd (cc (h j, d)))

-- BOUND NAMES that are exported

pub record Exporting (up : List Ancestor) : Type 0 where
  pub bound : (x : Text) → filter is_exported (bound_names up x) ≡ export_name x
  pub named : is_named_place up ≡ false

pub exported-identifier : (up : List Ancestor) → Exporting up → (x : Text) → filter is_exported (bound_names up x ++ exported_names up x) ≡ export_name x
exported-identifier up h x = filter-append is_exported (bound_names up x) (exported_names up x) ∙ (λ i. h.bound x i ++ filter is_exported (if h.named i then export_name x else []))

pub edge-kind : (k : AstType) (i : ℕ) (last : Bool) (t : Tree) → Edges fits k i last t → expects k i (kind_of t) ≡ true
edge-kind k i last (node j l fs) e = expected k i last j e.0

pub edge-fields : (k : AstType) (i : ℕ) (last : Bool) (t : Tree) → Edges fits k i last t → EdgesIn fits (kind_of t) 0 (fields_of t)
edge-fields k i last (node j l fs) e = e.1

mutual
  pub pattern-exports : (up vp : List Ancestor) (n : ℕ) (t : Tree) → is_pattern (kind_of t) ≡ true → Exporting up → EdgesIn fits (kind_of t) 0 (fields_of t) → Keeps vp t → exported_in (visits up n t) ≡ lists (bound_texts t)
  pattern-exports up vp n (node Identifier l fs) p h e r = λ i. push (exported-identifier up h (first_text l.texts) i) (silent-fields up vp Identifier l fs n 0 (suc n) fs (λ j a. quiet-in up vp Identifier l fs n j refl refl (λ d. absurd (cc d))) e r.1 i)
  pattern-exports up vp n (node ObjectPattern l done) p h e r = refl
  pattern-exports up vp n (node ObjectPattern l (f then fs)) p h e r =
      let all : Fields = f then fs in
      with-rest up vp ObjectPattern l all n 0 (suc n) f fs (lists (texts_of (bound_in_field f))) (pattern-field (ancestor ObjectPattern l all 0 n ∷ up) (ancestor ObjectPattern l all 0 0 ∷ vp) ObjectPattern 0 (is_last fs) (suc n) f (λ j d. d) (record { bound = h.bound; named = refl }) e.0 r.1.0)
      (later-quiet up vp ObjectPattern l all n refl refl (λ j. refl) (λ j. rw (one-zero j) refl)) e.1 r.1.1
  pattern-exports up vp n (node AssignmentPattern l done) p h e r = refl
  pattern-exports up vp n (node AssignmentPattern l (f then fs)) p h e r =
      let all : Fields = f then fs in
      with-rest up vp AssignmentPattern l all n 0 (suc n) f fs (lists (texts_of (bound_in_field f))) (pattern-field (ancestor AssignmentPattern l all 0 n ∷ up) (ancestor AssignmentPattern l all 0 0 ∷ vp) AssignmentPattern 0 (is_last fs) (suc n) f (λ j d. d) (record { bound = h.bound; named = refl }) e.0 r.1.0)
      (later-quiet up vp AssignmentPattern l all n refl refl (λ j. refl) (λ j. rw (one-zero j) refl)) e.1 r.1.1
  pattern-exports up vp n (node RestElement l done) p h e r = refl
  pattern-exports up vp n (node RestElement l (f then fs)) p h e r =
      let all : Fields = f then fs in
      with-rest up vp RestElement l all n 0 (suc n) f fs (lists (texts_of (bound_in_field f))) (pattern-field (ancestor RestElement l all 0 n ∷ up) (ancestor RestElement l all 0 0 ∷ vp) RestElement 0 (is_last fs) (suc n) f (λ j d. d) (record { bound = h.bound; named = refl }) e.0 r.1.0)
      (later-quiet up vp RestElement l all n refl refl (λ j. refl) (λ j. rw (one-zero j) refl)) e.1 r.1.1
  pattern-exports up vp n (node PatternProperty l done) p h e r = refl
  pattern-exports up vp n (node PatternProperty l (f then done)) p h e r =
      let all : Fields = f then done in
      behind-silent up vp PatternProperty l all n 0 (suc n) f done [] (quiet-in up vp PatternProperty l all n 0 refl refl (λ d. absurd (cc d))) e.0 r.1.0 refl
  pattern-exports up vp n (node PatternProperty l (f then (g then fs))) p h e r =
      let all : Fields = f then (g then fs) in
      behind-silent up vp PatternProperty l all n 0 (suc n) f (g then fs) (lists (texts_of (bound_in_field g))) (quiet-in up vp PatternProperty l all n 0 refl refl (λ d. absurd (cc d))) e.0 r.1.0
      (with-rest up vp PatternProperty l all n 1 (suc n + field_size f) g fs (lists (texts_of (bound_in_field g))) (pattern-field (ancestor PatternProperty l all 1 n ∷ up) (ancestor PatternProperty l all 1 0 ∷ vp) PatternProperty 1 (is_last fs) (suc n + field_size f) g (λ j d. d) (record { bound = h.bound; named = refl }) e.1.0 r.1.1.0)
      (third-quiet up vp PatternProperty l all n refl (λ j. refl) (λ j. refl) (λ j. rw (two-one j) refl)) e.1.1 r.1.1.1)
  pattern-exports up vp n (node ArrayPattern l fs) p h e r = array-fields up vp l fs n 0 (suc n) fs h e r.1
  pattern-exports up vp n (node _ l fs) p h e r = absurd (cc p)

  array-fields : (up vp : List Ancestor) (l : Label) (all : Fields) (n i s : ℕ) (fs : Fields) → Exporting up → EdgesIn fits ArrayPattern i fs → KeepsIn vp ArrayPattern l all i fs → exported_in (visits_in_fields up ArrayPattern l all n i s fs) ≡ lists (texts_of (bound_in_fields fs))
  array-fields up vp l all n i s done h e r = refl
  array-fields up vp l all n i s (f then fs) h e r =
      exported-append (visits_in_field (ancestor ArrayPattern l all i n ∷ up) s f) (visits_in_fields up ArrayPattern l all n (suc i) (s + field_size f) fs)
      ∙ (λ j. pattern-field (ancestor ArrayPattern l all i n ∷ up) (ancestor ArrayPattern l all i 0 ∷ vp) ArrayPattern i (is_last fs) s f (λ m d. d) (record { bound = h.bound; named = refl }) e.0 r.0 j ++ array-fields up vp l all n (suc i) (s + field_size f) fs h e.1 r.1 j)
      ∙ sym (of-append (bound_in_field f) (bound_in_fields fs))

  pub pattern-field : (up vp : List Ancestor) (k : AstType) (i : ℕ) (last : Bool) (s : ℕ) (f : Field) → ((j : AstType) → expects k i j ≡ true → is_pattern j ≡ true) → Exporting up → EdgesBy fits k i last f → KeepsBy vp f → exported_in (visits_in_field up s f) ≡ lists (texts_of (bound_in_field f))
  pattern-field up vp k i last s missing p h e r = refl
  pattern-field up vp k i last s (one t) p h e r = pattern-exports up vp s t (p (kind_of t) (edge-kind k i last t e)) h (edge-fields k i last t e) r
  pattern-field up vp k i last s (many ts) p h e r = pattern-trees up vp k i s ts p h e r
  pattern-field up vp k i last s (statements ts) p h e r = pattern-trees up vp k i s ts p h e r

  pattern-trees : (up vp : List Ancestor) (k : AstType) (i s : ℕ) (ts : Trees) → ((j : AstType) → expects k i j ≡ true → is_pattern j ≡ true) → Exporting up → EdgesAll fits k i ts → KeepsAll vp ts → exported_in (visits_in_trees up s ts) ≡ lists (texts_of (bound_in_trees ts))
  pattern-trees up vp k i s empty p h e r = refl
  pattern-trees up vp k i s (t before ts) p h e r =
      exported-append (visits up s t) (visits_in_trees up (s + tree_size t) ts)
      ∙ (λ j. pattern-exports up vp s t (p (kind_of t) (edge-kind k i false t e.0)) h (edge-fields k i false t e.0) r.0 j ++ pattern-trees up vp k i (s + tree_size t) ts p h e.1 r.1 j)
      ∙ sym (of-append (bound_identifiers t) (bound_in_trees ts))
