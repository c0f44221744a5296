-- What a program becomes weighs no more than twenty for each node of it, once its `using` moved out of heads and is lowered, too. At a binding pattern
-- none moves and none is lowered, so it leaves four of its twenty; a name leaves six beside, which what is made for it weighs, and in what is made for an
-- export none moves and none is lowered either.
use Rattle.std.proofs.Common.{◌≡◌, ◌≤◌, ℕ, suc, refl, subst, sym, arith, List, [], ◌∷◌, length, length-append}
use Rattle.std.specs.Prelude.{Bool, true, false, ◌+◌, ◌*◌, ◌&&◌, if◌then◌else◌}
use Rattle.std.proofs.lemmas.Bool.{and_parts}
use Rattle.es_tree.specs.BoundNames.{bound_identifiers, bound_in_field, bound_in_fields, bound_in_first, bound_in_second, bound_in_trees}
use Rattle.es_tree.specs.HasForm.{has_form}
use Rattle.es_tree.specs.Tree.{Tree, node, Label, Fields, done, ◌then◌, Field, missing, one, many, statements, Trees, empty, ◌before◌, field_size, fields_size, tree_size, trees_size}
use Rattle.es_tree.specs.Walks.{all_in_field, all_in_fields, all_in_trees, all_nodes}
use Rattle.es_tree.specs.Words.{Text}
use Rattle.es_tree.specs.declared.ast_type.AstType.{AstType}
use Rattle.es_tree.specs.declared.ast_type.AstType.TheVariants.{ArrayPattern, AssignmentPattern, ExportNamedDeclaration, Identifier, ObjectPattern, PatternProperty, Program, RestElement, VariableDeclaration, VariableDeclarator}
use Rattle.es_tree.specs.declared.table.Sort.TheVariants.{Program as s-Program}
use Rattle.es_pattern_moves.specs.Moved.{Makes as HeadMakes, plainly as plainly_headed}
use Rattle.es_pattern_moves.specs.Weights.{weighed, weighed_among, weighed_by, weighed_in}
use Rattle.es_using_rows.specs.Used.{Makes as UsedMakes, plainly as plainly_used, used, used_among, used_by, used_in}
use Rattle.es_using_rows.specs.UsingPlaces.{standing_in}
use Rattle.es_using_rows.specs.declared.standing.Standing.{Standing}
use Rattle.es_using_rows.specs.declared.standing.Standing.TheVariants.{Anywhere}
use Rattle.es_using_rows.proofs.FormedNodes.{formed-nodes}
use Rattle.es_using_rows.proofs.UsedSize.{AreNames, formed-others, has_others, here-paid, others-stay, spare, spare_among, spare_by, spare_in}
use Rattle.es_using_heads.specs.Heads.{headed, headed_among, headed_by, headed_fields, headed_in, moves_using}
use Rattle.es_using_heads.proofs.HeadWeights.{field-fits, fields-fit, headed-others, tree-fits, trees-fit}
use Rattle.es_export_splits.specs.Laws.{LawSplitWeighsUsed}
use Rattle.es_export_splits.specs.Splits.{export_of, is_split, names_of_declaration, names_of_declarator, names_of_declarators, plainly, specifiers, split, split_before, split_list}
use Rattle.es_export_splits.proofs.SplitStays.{Listed, RestDeclaration, SplitExport, listed, split-export}
use Rattle.es_export_splits.proofs.SplitStays.Listed.{lists, others}
use Rattle.es_export_splits.proofs.SplitStays.RestDeclaration.{declares}
use Rattle.es_export_splits.proofs.SplitStays.SplitExport.{exports}

-- what a tree weighs and spares
abbrev held : Tree → ℕ
held t = weighed t + spare t

abbrev held_in : Fields → ℕ
held_in fs = weighed_in fs + spare_in fs

abbrev held_by : Field → ℕ
held_by f = weighed_by f + spare_by f

abbrev held_among : Trees → ℕ
held_among ts = weighed_among ts + spare_among ts

module _ (heads : List Text) (m : UsedMakes) (named : AreNames m) where
  abbrev h : HeadMakes
  h = plainly_headed heads

  -- WHAT IS MADE stays as it is

  specifiers-weigh : (s : Standing) (n i : ℕ) (xs : List Tree) → weighed_among (used_among m s n (headed_among h i (specifiers plainly xs)).1).1 ≡ 6 * length xs
  specifiers-weigh s n i [] = refl
  specifiers-weigh s n i (x ∷ xs) = omega (arith, specifiers-weigh s n i xs)

  pub export-weighs : (s : Standing) (n i : ℕ) (t : Tree) (xs : List Tree) → weighed (used m s n (headed h i (export_of plainly t xs)).1).1 ≡ 2 + 6 * length xs
  export-weighs s n i t xs = omega (arith, specifiers-weigh Anywhere n i xs)

  -- BINDING PATTERNS, with what is made for their names

  -- what a tree becomes by the first walk, lowered, and so many beside, are at most so many
  abbrev Fits : Standing → ℕ → ℕ → ℕ → ℕ × Tree → Type 0
  Fits s n c w r = held (used m s n r.1).1 + c ≤ w

  -- a node at which none moves
  node-fits : (s : Standing) (n i : ℕ) (k : AstType) (l : Label) (fs : Fields) (c : ℕ) → moves_using k l (headed_in h i fs).1 ≡ false → has_others k l fs ≡ true →
      held_in (used_in m (standing_in k) n (headed_in h i fs).1).1 + c ≤ 20 * fields_size fs → Fits s n c (20 * tree_size (node k l fs)) (headed h i (node k l fs))
  node-fits s n i k l fs c stays o fits = at (moves_using k l gs) stays
    where
      gs : Fields
      gs = (headed_in h i fs).1

      at : (b : Bool) → b ≡ false → Fits s n c (20 * tree_size (node k l fs)) (if b then (suc (headed_in h i fs).0, node k l (headed_fields h (headed_in h i fs).0 gs)) else ((headed_in h i fs).0, node k l gs))
      at true e = absurd (cc e)
      at false e =
          let r : ℕ × Fields = used_in m (standing_in k) n gs in
          omega (arith, fits, here-paid m named s r.0 k l r.1 (held_in r.1) (others-stay m named (standing_in k) n k l gs (headed-others heads m named i k l fs o)) (omega arith))

  -- a node that binds nothing
  none-bound : (s : Standing) (n i : ℕ) (t : Tree) → all_nodes has_others t ≡ true → Fits s n (6 * length {A = Tree} []) (20 * tree_size t) (headed h i t)
  none-bound s n i t o = omega (arith, tree-fits heads m named s n i t o)

  mutual
    pattern-fits : (s : Standing) (n i : ℕ) (t : Tree) → all_nodes has_others t ≡ true → Fits s n (6 * length (bound_identifiers t)) (20 * tree_size t) (headed h i t)
    pattern-fits s n i (node Identifier l fs) o = omega (arith, fields-fit heads m named (standing_in Identifier) n i fs o)
    pattern-fits s n i (node ObjectPattern l fs) o = node-fits s n i ObjectPattern l fs (6 * length (bound_in_first fs)) refl refl (first-fits (standing_in ObjectPattern) n i fs o)
    pattern-fits s n i (node PatternProperty l fs) o = node-fits s n i PatternProperty l fs (6 * length (bound_in_second fs)) refl refl (second-fits (standing_in PatternProperty) n i fs o)
    pattern-fits s n i (node ArrayPattern l fs) o = node-fits s n i ArrayPattern l fs (6 * length (bound_in_fields fs)) refl refl (all-fit (standing_in ArrayPattern) n i fs o)
    pattern-fits s n i (node AssignmentPattern l fs) o = node-fits s n i AssignmentPattern l fs (6 * length (bound_in_first fs)) refl refl (first-fits (standing_in AssignmentPattern) n i fs o)
    pattern-fits s n i (node RestElement l fs) o = node-fits s n i RestElement l fs (6 * length (bound_in_first fs)) refl refl (first-fits (standing_in RestElement) n i fs o)
    pattern-fits s n i t o = none-bound s n i t o

    all-fit : (c : ℕ → Standing) (n i : ℕ) (fs : Fields) → all_in_fields has_others fs ≡ true → held_in (used_in m c n (headed_in h i fs).1).1 + 6 * length (bound_in_fields fs) ≤ 20 * fields_size fs
    all-fit c n i done o = omega arith
    all-fit c n i (f then fs) o =
        let d = and_parts (all_in_field has_others f) (all_in_fields has_others fs) o in
        omega (arith, length-append (bound_in_field f) (bound_in_fields fs), part-fits (c 0) n i f d.0, all-fit (λ i. c (suc i)) (used_by m (c 0) n (headed_by h i f).1).0 (headed_by h i f).0 fs d.1)

    first-fits : (c : ℕ → Standing) (n i : ℕ) (fs : Fields) → all_in_fields has_others fs ≡ true → held_in (used_in m c n (headed_in h i fs).1).1 + 6 * length (bound_in_first fs) ≤ 20 * fields_size fs
    first-fits c n i done o = omega arith
    first-fits c n i (f then fs) o =
        let d = and_parts (all_in_field has_others f) (all_in_fields has_others fs) o in
        omega (arith, part-fits (c 0) n i f d.0, fields-fit heads m named (λ i. c (suc i)) (used_by m (c 0) n (headed_by h i f).1).0 (headed_by h i f).0 fs d.1)

    second-fits : (c : ℕ → Standing) (n i : ℕ) (fs : Fields) → all_in_fields has_others fs ≡ true → held_in (used_in m c n (headed_in h i fs).1).1 + 6 * length (bound_in_second fs) ≤ 20 * fields_size fs
    second-fits c n i done o = omega arith
    second-fits c n i (f then fs) o =
        let d = and_parts (all_in_field has_others f) (all_in_fields has_others fs) o in
        omega (arith, field-fits heads m named (c 0) n i f d.0, first-fits (λ i. c (suc i)) (used_by m (c 0) n (headed_by h i f).1).0 (headed_by h i f).0 fs d.1)

    part-fits : (s : Standing) (n i : ℕ) (f : Field) → all_in_field has_others f ≡ true → held_by (used_by m s n (headed_by h i f).1).1 + 6 * length (bound_in_field f) ≤ 20 * field_size f
    part-fits s n i missing o = omega arith
    part-fits s n i (one t) o = pattern-fits s n i t o
    part-fits s n i (many ts) o = parts-fit s n i ts o
    part-fits s n i (statements ts) o = parts-fit s n i ts o

    parts-fit : (s : Standing) (n i : ℕ) (ts : Trees) → all_in_trees has_others ts ≡ true → held_among (used_among m s n (headed_among h i ts).1).1 + 6 * length (bound_in_trees ts) ≤ 20 * trees_size ts
    parts-fit s n i empty o = omega arith
    parts-fit s n i (t before ts) o =
        let d = and_parts (all_nodes has_others t) (all_in_trees has_others ts) o in
        omega (arith, length-append (bound_identifiers t) (bound_in_trees ts), pattern-fits s n i t d.0, parts-fit s (used m s n (headed h i t).1).0 (headed h i t).0 ts d.1)

  -- DECLARATIONS

  declarator-fits : (s : Standing) (n i : ℕ) (d : Tree) → all_nodes has_others d ≡ true → Fits s n (6 * length (names_of_declarator d)) (20 * tree_size d) (headed h i d)
  declarator-fits s n i (node VariableDeclarator l (one p then fs)) o =
      let d = and_parts (has_others VariableDeclarator l (one p then fs)) (all_in_fields has_others (one p then fs)) o in
      let parts = and_parts (all_nodes has_others p) (all_in_fields has_others fs) d.1 in
      let rest = fields-fit heads m named (λ i. standing_in VariableDeclarator (suc i)) (used m Anywhere n (headed h i p).1).0 (headed h i p).0 fs parts.1 in
      node-fits s n i VariableDeclarator l (one p then fs) (6 * length (bound_identifiers p)) refl d.0 (omega (arith, pattern-fits Anywhere n i p parts.0, rest))
  declarator-fits s n i d o = none-bound s n i d o

  declarators-fit : (s : Standing) (n i : ℕ) (ds : Trees) → all_in_trees has_others ds ≡ true → held_among (used_among m s n (headed_among h i ds).1).1 + 6 * length (names_of_declarators ds) ≤ 20 * trees_size ds
  declarators-fit s n i empty o = omega arith
  declarators-fit s n i (d before ds) o =
      let e = and_parts (all_nodes has_others d) (all_in_trees has_others ds) o in
      omega (arith, length-append (names_of_declarator d) (names_of_declarators ds), declarator-fits s n i d e.0, declarators-fit s (used m s n (headed h i d).1).0 (headed h i d).0 ds e.1)

  pub declaration-fits : (s : Standing) (n i : ℕ) {d : Tree} → RestDeclaration d → all_nodes has_others d ≡ true → Fits s n (6 * length (names_of_declaration d)) (20 * tree_size d) (headed h i d)
  declaration-fits s n i (declares l ds done) o =
      let e = and_parts (all_in_trees has_others ds) true o in
      node-fits s n i VariableDeclaration l (many ds then done) (6 * length (names_of_declarators ds)) refl refl (omega (arith, declarators-fit Anywhere n i ds e.0))
  declaration-fits s n i (declares l ds (f then fs)) o = none-bound s n i (node VariableDeclaration l (many ds then f then fs)) o

  -- LISTS

  before-fits : (s : Standing) (n i : ℕ) {t : Tree} (us : Trees) (w : ℕ) → SplitExport t → all_nodes has_others t ≡ true → ((n i : ℕ) → weighed_among (used_among m s n (headed_among h i us).1).1 ≤ w) →
      weighed_among (used_among m s n (headed_among h i (split_before plainly t us)).1).1 ≤ 20 * tree_size t + w
  before-fits s n i us w (exports l d rest) o after =
      let e = and_parts (all_nodes has_others d) true o in
      let t : Tree = node ExportNamedDeclaration l (one d then many empty then missing then many empty then done) in
      let made : Tree = export_of plainly t (names_of_declaration d) in
      let n' : ℕ = (used m s n (headed h i d).1).0 in
      let i' : ℕ = (headed h i d).0 in
      omega (arith, declaration-fits s n i rest e.0, export-weighs s n' i' t (names_of_declaration d), after (used m s n' (headed h i' made).1).0 (headed h i' made).0)

  list-fits : (s : Standing) (n i : ℕ) (ts : Trees) → all_in_trees has_others ts ≡ true → weighed_among (used_among m s n (headed_among h i (split_list plainly ts)).1).1 ≤ 20 * trees_size ts
  list-fits s n i empty o = omega arith
  list-fits s n i (t before ts) o =
      let d = and_parts (all_nodes has_others t) (all_in_trees has_others ts) o in
      at (is_split t) refl d.0 (λ n i. list-fits s n i ts d.1)
    where
      at : (b : Bool) → is_split t ≡ b → all_nodes has_others t ≡ true → ((n i : ℕ) → weighed_among (used_among m s n (headed_among h i (split_list plainly ts)).1).1 ≤ 20 * trees_size ts) →
          weighed_among (used_among m s n (headed_among h i (if b then split_before plainly t (split_list plainly ts) else t before split_list plainly ts)).1).1 ≤ 20 * (tree_size t + trees_size ts)
      at true e o rest = omega (arith, before-fits s n i (split_list plainly ts) (20 * trees_size ts) (split-export t e) o rest)
      at false e o rest = omega (arith, tree-fits heads m named s n i t o, rest (used m s n (headed h i t).1).0 (headed h i t).0)

  -- A PROGRAM
  program-fits : {p : Tree} → Listed p → has_form s-Program p ≡ true → weighed (used m Anywhere 0 (headed h 0 (split plainly p)).1).1 ≤ 20 * tree_size p
  program-fits (lists l ds ts) form =
      let e = and_parts (all_in_trees has_others ds) (all_in_trees has_others ts && true) (formed-nodes has_others formed-others s-Program (node Program l (many ds then statements ts then done)) form) in
      let n : ℕ = (used_among m Anywhere 0 (headed_among h 0 ds).1).0 in
      omega (arith, trees-fit heads m named Anywhere 0 0 ds e.0, list-fits Anywhere n (headed_among h 0 ds).0 ts (and_parts (all_in_trees has_others ts) true e.1).0)
  program-fits {p} (others same) form =
      subst (λ (t : Tree). weighed (used m Anywhere 0 (headed h 0 t).1).1 ≤ 20 * tree_size p) (sym (same plainly)) (omega (arith, tree-fits heads m named Anywhere 0 0 p (formed-nodes has_others formed-others s-Program p form)))

pub law_split_weighs_used_proof : LawSplitWeighsUsed
law_split_weighs_used_proof p heads names form = program-fits heads (plainly_used names) (record { context = λ n h. refl; error = λ n h. refl; word = λ x h. refl }) (listed p) form
