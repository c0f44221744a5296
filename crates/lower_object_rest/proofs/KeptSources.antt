-- Whether a source is kept: as the code asks it, and of what is seen.
use Rattle.std.proofs.Common.{ap, length, refl, suc, sym, ◌-◌, ◌++◌, ◌==◌, ◌∙◌, ◌∷◌, ◌≡◌, [], List, Option, Some, ℕ}
use Rattle.std.proofs.lemmas.Bool.{or_parts}
use Rattle.std.proofs.lemmas.List.Folds.{list_any-append}
use Rattle.std.specs.List.{list_any}
use Rattle.std.specs.Prelude.{Bool, bytes_eq, false, if◌then◌else◌, is_some, not, string_bytes, true, ◌&&◌, ◌||◌}
use Rattle.es_tree.specs.BoundNames.{bound_identifiers, bound_in_field, bound_in_fields, bound_in_first, bound_in_second, bound_in_trees}
use Rattle.es_tree.specs.Fresh.{is_among}
use Rattle.es_tree.specs.Names.{first_text}
use Rattle.es_tree.specs.Tree.{Field, Fields, Label, Tree, Trees, done, empty, label_of, many, missing, node, one, statements, ◌before◌, ◌then◌}
use Rattle.es_tree.specs.Views.{plain, plain_fields}
use Rattle.es_tree.specs.Words.{Text}
use Rattle.es_tree.specs.declared.ast_type.AstType.TheVariants.{ArrayPattern, AssignmentPattern, Identifier, ObjectPattern, PatternProperty, RestElement}
use Rattle.es_tree.specs.Heads.{symbol as symbol_number}
use Rattle.es_tree.specs.declared.ids.NodeId.{NodeId}
use Rattle.es_tree.specs.declared.ids.ReferenceId.{ReferenceId}
use Rattle.es_tree.specs.declared.ids.Span.{Span}
use Rattle.es_tree.specs.declared.ids.SymbolId.{SymbolId}
use Rattle.es_tree.specs.declared.kind.Kind.{Kind as NodeKind}
use Rattle.es_tree.specs.declared.kind.Kind.TheVariants.{Identifier as k-Identifier}
use Rattle.std.specs.declared.alloc.Global.{Global}
use Rattle.std.specs.declared.string.String.{String}
use Rattle.es_tree.specs.declared.node.Field.{Field as NodeField}
use Rattle.es_resolution.specs.Declarations.{sought, symbol_of}
use Rattle.es_resolution.specs.Resolved.{bound_by}
use Rattle.es_resolution.specs.Seen.{seen, seen_among, seen_by, seen_in}
use Rattle.es_runs.specs.Duplication.{has_no_fields}
use Rattle.es_steps.specs.Duplication.{is_among_symbols}
use Rattle.es_steps.specs.Nodes.{joined_trees}
use Rattle.es_steps.specs.ObjectRest.{pattern_node}
use Rattle.es_steps.specs.Steps.{Whole}
use Rattle.es_traverse.specs.ContextMoments.{bound_names}
use Rattle.es_rest_rows.specs.RestRows.{binds_name, is_kept}
use Rattle.lower_temporaries.proofs.ReadAgain.{no_fields}
use Rattle.lower_object_rest.specs.Parts.{binds_called, is_called}

-- THE NAMES of a pattern

module _ (x : Text) where
  -- whether what is seen of a node has this name
  abbrev has_name : Tree → Bool
  has_name t = bytes_eq (first_text (label_of t).texts) x

  either : (p q : Tree → Bool) (ts us vs ws : List Tree) → list_any p ts ≡ list_any q vs → list_any p us ≡ list_any q ws → list_any p (ts ++ us) ≡ list_any q (vs ++ ws)
  either p q ts us vs ws h k = list_any-append p ts us ∙ ((λ i. h i || k i) ∙ sym (list_any-append q vs ws))

  module _ (names : ℕ → Text → Option ℕ) where
    mutual
      pub names-seen : (t : Tree) → list_any has_name (bound_identifiers (seen names t)) ≡ list_any (is_called x) (bound_identifiers t)
      names-seen (node Identifier l fs) = refl
      names-seen (node ObjectPattern l fs) = names-first fs
      names-seen (node PatternProperty l fs) = names-second fs
      names-seen (node ArrayPattern l fs) = names-in fs
      names-seen (node AssignmentPattern l fs) = names-first fs
      names-seen (node RestElement l fs) = names-first fs
      names-seen (node _ l fs) = refl

      names-in : (fs : Fields) → list_any has_name (bound_in_fields (seen_in names fs)) ≡ list_any (is_called x) (bound_in_fields fs)
      names-in done = refl
      names-in (f then fs) = either has_name (is_called x) (bound_in_field (seen_by names f)) (bound_in_fields (seen_in names fs)) (bound_in_field f) (bound_in_fields fs) (names-by f) (names-in fs)

      names-first : (fs : Fields) → list_any has_name (bound_in_first (seen_in names fs)) ≡ list_any (is_called x) (bound_in_first fs)
      names-first done = refl
      names-first (f then fs) = names-by f

      names-second : (fs : Fields) → list_any has_name (bound_in_second (seen_in names fs)) ≡ list_any (is_called x) (bound_in_second fs)
      names-second done = refl
      names-second (f then done) = refl
      names-second (f then (g then fs)) = names-by g

      names-by : (f : Field) → list_any has_name (bound_in_field (seen_by names f)) ≡ list_any (is_called x) (bound_in_field f)
      names-by missing = refl
      names-by (one t) = names-seen t
      names-by (many ts) = names-among ts
      names-by (statements ts) = names-among ts

      names-among : (ts : Trees) → list_any has_name (bound_in_trees (seen_among names ts)) ≡ list_any (is_called x) (bound_in_trees ts)
      names-among empty = refl
      names-among (t before ts) = either has_name (is_called x) (bound_identifiers (seen names t)) (bound_in_trees (seen_among names ts)) (bound_identifiers t) (bound_in_trees ts) (names-seen t) (names-among ts)

pub binds-seen : (names : ℕ → Text → Option ℕ) (x : Text) (p : Tree) → binds_name x (seen names p) ≡ binds_called x p
binds-seen names x p = names-seen x names p

-- MADE NAMES

pub made-named : (free : ℕ) (xs : List Text) (x : Text) → bound_by (bound_names free xs) x ≡ is_among xs x
made-named free [] x = refl
made-named free (y ∷ ys) x = at (bytes_eq y x) (Some (free - suc (length ys))) (sought (bound_names free ys) x) (made-named free ys x)
  where
    at : (b : Bool) (s : Option ℕ) (o : Option (Option ℕ)) {c : Bool} → is_some o ≡ c → is_some (if b then Some s else o) ≡ (b || c)
    at true s o h = refl
    at false s o h = h

-- A SOURCE THAT IS KEPT is kept later, once more names were made, by a pattern that binds fewer names

pub kept-later : (w v : Whole) (p q s : Tree) → ((x : Text) → bound_by w.made x ≡ true → bound_by v.made x ≡ true) → v.steady ≡ w.steady → ((x : Text) → binds_name x p ≡ false → binds_name x q ≡ false) → is_kept w p s ≡ true → is_kept v q s ≡ true
kept-later w v p q (node Identifier l done) made steady fewer h =
    let x = first_text l.texts in
    at (bound_by w.made x) (bound_by v.made x) (is_among_symbols w.steady (symbol_of l)) (is_among_symbols v.steady (symbol_of l)) (binds_name x p) (binds_name x q) (made x) (λ i. is_among_symbols (steady i) (symbol_of l)) (fewer x) h
  where
    at : (a b c d e f : Bool) → (a ≡ true → b ≡ true) → d ≡ c → (e ≡ false → f ≡ false) → (a || (c && not e)) ≡ true → (b || (d && not f)) ≡ true
    at true b c d e f k g m h = ap (λ z. z || (d && not f)) (k refl)
    at false true c d e f k g m h = refl
    at false false true d false f k g m h = λ i. g i && not (m refl i)
    at false false true d true f k g m h = absurd (cc h)
    at false false false d e f k g m h = absurd (cc h)
kept-later w v p q (node Identifier l (f then fs)) made steady fewer h = absurd (cc h)
kept-later w v p q (node _ l fs) made steady fewer h = absurd (cc h)

-- the last properties of a pattern bind no name that the pattern doesn't
bound-joined : (x : Text) (xs ys : Trees) → list_any (has_name x) (bound_in_trees (joined_trees xs ys)) ≡ false → list_any (has_name x) (bound_in_trees ys) ≡ false
bound-joined x empty ys h = h
bound-joined x (t before xs) ys h =
    let parts = or_parts (list_any (has_name x) (bound_identifiers t)) (list_any (has_name x) (bound_in_trees (joined_trees xs ys))) (sym (list_any-append (has_name x) (bound_identifiers t) (bound_in_trees (joined_trees xs ys))) ∙ h) in
    bound-joined x xs ys parts.1

pub binds-behind : (x : Text) (l m : Label) (xs ys : Trees) → binds_name x (pattern_node l (joined_trees xs ys)) ≡ false → binds_name x (pattern_node m ys) ≡ false
binds-behind x l m xs ys h = bound-joined x xs ys h

-- A SOURCE, by its fields

-- where it is a name
abbrev pub keeps_name : Whole → Tree → Text → Option ℕ → Bool
keeps_name w p x s = bound_by w.made x || (is_among_symbols w.steady s && not (binds_name x p))

-- without fields it is kept where its name is
pub kept-leaf : (test : Tree → Bool) (t : Tree) (id : NodeId) (span : Span) (kind : NodeKind) (fs : List NodeField) (n : ℕ) (b : Bool) → plain id span kind (plain_fields fs) ≡ t → ((gs : Fields) → test (plain id span kind gs) ≡ (has_no_fields gs && b)) → n ≡ length fs → (n == 0) ≡ true → test t ≡ b
kept-leaf test t id span kind fs n b view leaf count none =
    let no : has_no_fields (plain_fields fs) ≡ true = no_fields fs ∙ (ap (λ m. m == 0) (sym count) ∙ none) in
    sym (ap test view) ∙ (leaf (plain_fields fs) ∙ ap (λ a. a && b) no)

pub keeps-made : (w : Whole) (p : Tree) (x : Text) (s : Option ℕ) → bound_by w.made x ≡ true → keeps_name w p x s ≡ true
keeps-made w p x s h = ap (λ b. b || (is_among_symbols w.steady s && not (binds_name x p))) h

pub keeps-not-steady : (w : Whole) (p : Tree) (x : Text) (s : Option ℕ) → bound_by w.made x ≡ false → is_among_symbols w.steady s ≡ false → keeps_name w p x s ≡ false
keeps-not-steady w p x s h k = λ i. h i || (k i && not (binds_name x p))

pub keeps-steady : (w : Whole) (p : Tree) (x : Text) (s : Option ℕ) → bound_by w.made x ≡ false → is_among_symbols w.steady s ≡ true → keeps_name w p x s ≡ not (binds_name x p)
keeps-steady w p x s h k = λ i. h i || (k i && not (binds_name x p))

-- a name, as it is seen
name-leaf : (w : Whole) (p : Tree) (names : ℕ → Text → Option ℕ) (id : NodeId) (span : Span) (name : String Global) (reference : Option ReferenceId) (symbol : Option SymbolId) (gs : Fields) →
    is_kept w p (seen names (plain id span (k-Identifier name reference symbol) gs)) ≡ (has_no_fields gs && keeps_name w p (string_bytes name) (symbol_number symbol))
name-leaf w p names id span name reference symbol done = refl
name-leaf w p names id span name reference symbol (f then gs) = refl

pub named-leaf : (w : Whole) (p : Tree) (names : ℕ → Text → Option ℕ) (id : NodeId) (span : Span) (kind : NodeKind) (name : String Global) (reference : Option ReferenceId) (symbol : Option SymbolId) → kind ≡ k-Identifier name reference symbol → (gs : Fields) →
    is_kept w p (seen names (plain id span kind gs)) ≡ (has_no_fields gs && keeps_name w p (string_bytes name) (symbol_number symbol))
named-leaf w p names id span kind name reference symbol e gs = ap (λ k. is_kept w p (seen names (plain id span k gs))) e ∙ name-leaf w p names id span name reference symbol gs
