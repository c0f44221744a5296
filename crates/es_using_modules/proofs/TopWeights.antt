-- What a program becomes weighs no more than twenty for each node of it, once its exports are split, `using` moved out of heads and was lowered elsewhere,
-- and then at its top. The `try` is paid by the program itself and by a declaration by `using`, an exported name by what it leaves as a binding, and what
-- a default export makes by its own node.
use Rattle.std.proofs.Common.{◌≡◌, ◌≤◌, ℕ, suc, refl, ap, arith, List, length}
use Rattle.std.specs.Prelude.{Bool, true, false, ◌+◌, ◌*◌, ◌&&◌, ◌||◌, not, if◌then◌else◌}
use Rattle.std.proofs.lemmas.Bool.{and_parts}
use Rattle.es_tree.specs.HasForm.{has_form}
use Rattle.es_tree.specs.Tree.{Tree, node, Label, Fields, done, ◌then◌, missing, one, many, statements, Trees, empty, ◌before◌, kind_of, tree_size, trees_size}
use Rattle.es_tree.specs.Walks.{all_in_fields, all_in_trees, all_nodes}
use Rattle.es_tree.specs.Words.{Text}
use Rattle.es_tree.specs.declared.ast_type.AstType.TheVariants.{ClassDeclaration, ExportDefaultDeclaration, ExportNamedDeclaration, Program, VariableDeclaration}
use Rattle.es_tree.specs.declared.table.Sort.TheVariants.{Program as s-Program}
use Rattle.es_steps.specs.UsingBlocks.{has_using, is_using_node}
use Rattle.es_top_imports.proofs.TopForms.{program-is}
use Rattle.es_pattern_moves.specs.Moved.{Makes as HeadMakes, plainly as plainly_headed}
use Rattle.es_pattern_moves.specs.Weights.{weighed, weighed_among}
use Rattle.es_using_rows.specs.Used.{Makes as UsedMakes, plainly as plainly_used, used, used_among, used_in}
use Rattle.es_using_rows.specs.UsingPlaces.{are_used, is_used, standing_in}
use Rattle.es_using_rows.specs.declared.standing.Standing.{Standing}
use Rattle.es_using_rows.specs.declared.standing.Standing.TheVariants.{Anywhere}
use Rattle.es_using_rows.proofs.FormedNodes.{formed-nodes}
use Rattle.es_using_rows.proofs.UsedSize.{AreNames, formed-others, has_others, spare}
use Rattle.es_using_heads.specs.Heads.{headed, headed_among, headed_in}
use Rattle.es_using_heads.proofs.HeadWeights.{fields-fit, tree-fits, trees-fit}
use Rattle.es_export_splits.specs.Splits.{export_of, is_split, names_of_declaration, split_before, split_list}
use Rattle.es_export_splits.specs.Splits as splits
use Rattle.es_export_splits.proofs.ExportBare.{IsListed}
use Rattle.es_export_splits.proofs.ExportBare.IsListed.{is_listed}
use Rattle.es_export_splits.proofs.ExportSplits.{listed}
use Rattle.es_export_splits.proofs.SplitStays.{RestDeclaration, SplitExport, split-export}
use Rattle.es_export_splits.proofs.SplitStays.RestDeclaration.{declares}
use Rattle.es_export_splits.proofs.SplitStays.SplitExport.{exports}
use Rattle.es_export_splits.proofs.SplitUsedWeights.{declaration-fits, export-weighs}
use Rattle.es_using_modules.specs.Laws.{LawToppedAloneWeighs, LawToppedWeighs}
use Rattle.es_using_modules.specs.ModuleTops.{names_declared, plainly, topped, uses_at_top}
use Rattle.es_using_modules.proofs.TopNameCounts.{declarators-same, fails, lowered, none-declares}
use Rattle.es_using_modules.proofs.TopStatements.{cost, cost-before, default-moves, is_exported, moves, named-moves, plain-moves, topped-weighs, using-moves}

module _ (heads : List Text) (m : UsedMakes) (named : AreNames m) (b : Bool) (xs : List Text) where
  abbrev h : HeadMakes
  h = plainly_headed heads

  -- A DECLARATION pays six for each name that it declares, where an export beside it pays eighteen
  names-fit : (s : Standing) (n i : ℕ) (d : Tree) → all_nodes has_others d ≡ true → let u : Tree = lowered heads m named s n i d in weighed u + spare u + 6 * length (names_declared u) ≤ 18 + 20 * tree_size d
  names-fit s n i (node VariableDeclaration l (many ds then done)) o = omega (arith, declaration-fits heads m named s n i (declares l ds done) o, declarators-same heads m named Anywhere n i ds)
  names-fit s n i (node VariableDeclaration l fs) o = omega (arith, tree-fits heads m named s n i (node VariableDeclaration l fs) o)
  names-fit s n i (node ClassDeclaration l (one c then fs)) o = omega (arith, tree-fits heads m named s n i (node ClassDeclaration l (one c then fs)) o)
  names-fit s n i (node ClassDeclaration l fs) o = omega (arith, tree-fits heads m named s n i (node ClassDeclaration l fs) o)
  names-fit s n i (node k l fs) o = omega (arith, tree-fits heads m named s n i (node k l fs) o, ap (length {A = Tree}) (none-declares heads m named s n i (node k l fs) refl))

  -- A STATEMENT

  exported-fits : (n i : ℕ) (t : Tree) → is_exported (kind_of t) ≡ true → all_nodes has_others t ≡ true → moves b xs (lowered heads m named Anywhere n i t) ≤ 20 * tree_size t
  exported-fits n i (node ExportNamedDeclaration l (one d then fs)) e o =
      let p = and_parts (all_nodes has_others d) (all_in_fields has_others fs) o in
      let n' : ℕ = (used m Anywhere n (headed h i d).1).0 in
      let i' : ℕ = (headed h i d).0 in
      let gs : Fields = (used_in m (λ j. standing_in ExportNamedDeclaration (suc j)) n' (headed_in h i' fs).1).1 in
      omega (arith, named-moves b xs l (lowered heads m named Anywhere n i d) gs, names-fit Anywhere n i d p.0, fields-fit heads m named (λ j. standing_in ExportNamedDeclaration (suc j)) n' i' fs p.1)
  exported-fits n i (node ExportNamedDeclaration l fs) e o = omega (arith, tree-fits heads m named Anywhere n i (node ExportNamedDeclaration l fs) o)
  exported-fits n i (node ExportDefaultDeclaration l (one d then fs)) e o =
      let p = and_parts (all_nodes has_others d) (all_in_fields has_others fs) o in
      let n' : ℕ = (used m Anywhere n (headed h i d).1).0 in
      let i' : ℕ = (headed h i d).0 in
      let gs : Fields = (used_in m (λ j. standing_in ExportDefaultDeclaration (suc j)) n' (headed_in h i' fs).1).1 in
      omega (arith, default-moves b xs l (lowered heads m named Anywhere n i d) gs, tree-fits heads m named Anywhere n i d p.0, fields-fit heads m named (λ j. standing_in ExportDefaultDeclaration (suc j)) n' i' fs p.1)
  exported-fits n i (node ExportDefaultDeclaration l fs) e o = omega (arith, tree-fits heads m named Anywhere n i (node ExportDefaultDeclaration l fs) o)
  exported-fits n i _ e o = absurd (cc e)

  statement-fits : (n i : ℕ) (t : Tree) → all_nodes has_others t ≡ true → moves b xs (lowered heads m named Anywhere n i t) ≤ 20 * tree_size t
  statement-fits n i t o = at (is_exported (kind_of t)) refl
    where
      at : (c : Bool) → is_exported (kind_of t) ≡ c → moves b xs (lowered heads m named Anywhere n i t) ≤ 20 * tree_size t
      at true e = exported-fits n i t e o
      at false e = omega (arith, plain-moves b xs (lowered heads m named Anywhere n i t) (fails heads m named is_exported refl Anywhere n i t e), tree-fits heads m named Anywhere n i t o)

  -- LISTS that become so much at most, and 38 less where they declare by `using`

  record Within (w : ℕ) (us : Trees) : Type 0 where
    every : cost b xs us ≤ w
    using : has_using us ≡ true → are_used us ≡ true → cost b xs us + 38 ≤ w

  within-before : (u : Tree) (us : Trees) (v w x : ℕ) → v + w ≤ x → moves b xs u ≤ v → (is_used u ≡ true → moves b xs u + 38 ≤ v) → Within w us → Within x (u before us)
  within-before u us v w x le every using rest = record { every = omega (arith, le, every, rest.every, cost-before b xs u us); using = λ d e. at (is_using_node u) d e }
    where
      at : (c : Bool) → (c || has_using us) ≡ true → ((not c || is_used u) && are_used us) ≡ true → cost b xs (u before us) + 38 ≤ x
      at true d e = omega (arith, le, using (and_parts (is_used u) (are_used us) e).0, rest.every, cost-before b xs u us)
      at false d e = omega (arith, le, every, rest.using d e, cost-before b xs u us)

  statement-within : (n i : ℕ) (t : Tree) (us : Trees) (w : ℕ) → all_nodes has_others t ≡ true → Within (20 * w) us → Within (20 * (tree_size t + w)) (lowered heads m named Anywhere n i t before us)
  statement-within n i t us w o rest =
      let u : Tree = lowered heads m named Anywhere n i t in
      within-before u us (20 * tree_size t) (20 * w) (20 * (tree_size t + w)) (omega arith) (statement-fits n i t o) (λ e. omega (arith, using-moves b xs u e, tree-fits heads m named Anywhere n i t o)) rest

  trees-within : (n i : ℕ) (ts : Trees) → all_in_trees has_others ts ≡ true → Within (20 * trees_size ts) (used_among m Anywhere n (headed_among h i ts).1).1
  trees-within n i empty o = record { every = omega arith; using = λ d e. absurd (cc d) }
  trees-within n i (t before ts) o =
      let d = and_parts (all_nodes has_others t) (all_in_trees has_others ts) o in
      let n' : ℕ = (used m Anywhere n (headed h i t).1).0 in
      let i' : ℕ = (headed h i t).0 in
      statement-within n i t (used_among m Anywhere n' (headed_among h i' ts).1).1 (trees_size ts) d.0 (trees-within n' i' ts d.1)

  -- SPLIT EXPORTS, whose declaration and what is made for it are statements of their own

  declares-plainly : (n i : ℕ) {d : Tree} → RestDeclaration d → is_exported (kind_of (lowered heads m named Anywhere n i d)) ≡ false
  declares-plainly n i (declares l ds fs) = refl

  before-within : (n i : ℕ) {t : Tree} (us : Trees) (w : ℕ) → SplitExport t → all_nodes has_others t ≡ true → ((n i : ℕ) → Within (20 * w) (used_among m Anywhere n (headed_among h i us).1).1) →
      Within (20 * (tree_size t + w)) (used_among m Anywhere n (headed_among h i (split_before splits.plainly t us)).1).1
  before-within n i us w (exports l d rest) o after =
      let e = and_parts (all_nodes has_others d) true o in
      let t : Tree = node ExportNamedDeclaration l (one d then many empty then missing then many empty then done) in
      let made : Tree = export_of splits.plainly t (names_of_declaration d) in
      let n' : ℕ = (used m Anywhere n (headed h i d).1).0 in
      let i' : ℕ = (headed h i d).0 in
      let n'' : ℕ = (used m Anywhere n' (headed h i' made).1).0 in
      let i'' : ℕ = (headed h i' made).0 in
      let u : Tree = lowered heads m named Anywhere n i d in
      let v : Tree = lowered heads m named Anywhere n' i' made in
      let vs : Trees = (used_among m Anywhere n'' (headed_among h i'' us).1).1 in
      let made-weighs : ℕ = 2 + 6 * length (names_of_declaration d) in
      let inner : Within (made-weighs + 20 * w) (v before vs) =
      within-before v vs made-weighs (20 * w) (made-weighs + 20 * w) (omega arith) (omega (arith, export-weighs heads m named Anywhere n' i' t (names_of_declaration d))) (λ g. absurd (cc g)) (after n'' i'') in
      within-before u (v before vs) (weighed u + spare u) (made-weighs + 20 * w) (20 * (tree_size t + w)) (omega (arith, declaration-fits heads m named Anywhere n i rest e.0)) (plain-moves b xs u (declares-plainly n i rest)) (using-moves b xs u) inner

  list-within : (n i : ℕ) (ts : Trees) → all_in_trees has_others ts ≡ true → Within (20 * trees_size ts) (used_among m Anywhere n (headed_among h i (split_list splits.plainly ts)).1).1
  list-within n i empty o = record { every = omega arith; using = λ d e. absurd (cc d) }
  list-within n i (t before ts) o = let d = and_parts (all_nodes has_others t) (all_in_trees has_others ts) o in at (is_split t) refl d.0 (λ n i. list-within n i ts d.1)
    where
      at : (c : Bool) → is_split t ≡ c → all_nodes has_others t ≡ true → ((n i : ℕ) → Within (20 * trees_size ts) (used_among m Anywhere n (headed_among h i (split_list splits.plainly ts)).1).1) →
          Within (20 * (tree_size t + trees_size ts)) (used_among m Anywhere n (headed_among h i (if c then split_before splits.plainly t (split_list splits.plainly ts) else t before split_list splits.plainly ts)).1).1
      at true e o rest = before-within n i (split_list splits.plainly ts) (trees_size ts) (split-export t e) o rest
      at false e o rest =
          let n' : ℕ = (used m Anywhere n (headed h i t).1).0 in
          let i' : ℕ = (headed h i t).0 in
          statement-within n i t (used_among m Anywhere n' (headed_among h i' (split_list splits.plainly ts)).1).1 (trees_size ts) o (rest n' i')

  -- A PROGRAM

  topped-fits : (l : Label) (ds us : Trees) (v w : ℕ) → weighed_among ds ≤ v → Within w us → uses_at_top (node Program l (many ds then statements us then done)) ≡ true → weighed (topped (plainly b xs) (node Program l (many ds then statements us then done))) ≤ 20 + v + w
  topped-fits l ds us v w le fits on = let d = and_parts (has_using us) (are_used us) on in omega (arith, le, topped-weighs b xs l ds us, fits.using d.0 d.1)

  record Formed (ds ts : Trees) : Type 0 where
    directives : all_in_trees has_others ds ≡ true
    list : all_in_trees has_others ts ≡ true

  formed : (l : Label) (ds ts : Trees) → has_form s-Program (node Program l (many ds then statements ts then done)) ≡ true → Formed ds ts
  formed l ds ts form =
      let e = and_parts (all_in_trees has_others ds) (all_in_trees has_others ts && true) (formed-nodes has_others formed-others s-Program (node Program l (many ds then statements ts then done)) form) in
      record { directives = e.0; list = (and_parts (all_in_trees has_others ts) true e.1).0 }

  program-fits : {p : Tree} → IsListed p → has_form s-Program p ≡ true → let q : Tree = lowered heads m named Anywhere 0 0 (splits.split splits.plainly p) in uses_at_top q ≡ true → weighed (topped (plainly b xs) q) ≤ 20 * tree_size p
  program-fits (is_listed l ds ts) form on =
      let f = formed l ds ts form in
      let i : ℕ = (headed_among h 0 ds).0 in
      let r : ℕ × Trees = used_among m Anywhere 0 (headed_among h 0 ds).1 in
      let us : Trees = (used_among m Anywhere r.0 (headed_among h i (split_list splits.plainly ts)).1).1 in
      omega (arith, topped-fits l r.1 us (20 * trees_size ds) (20 * trees_size ts) (omega (arith, trees-fit heads m named Anywhere 0 0 ds f.directives)) (list-within r.0 i ts f.list) on)

  alone-fits : {p : Tree} → IsListed p → has_form s-Program p ≡ true → let q : Tree = lowered heads m named Anywhere 0 0 p in uses_at_top q ≡ true → weighed (topped (plainly b xs) q) ≤ 20 * tree_size p
  alone-fits (is_listed l ds ts) form on =
      let f = formed l ds ts form in
      let i : ℕ = (headed_among h 0 ds).0 in
      let r : ℕ × Trees = used_among m Anywhere 0 (headed_among h 0 ds).1 in
      let us : Trees = (used_among m Anywhere r.0 (headed_among h i ts).1).1 in
      omega (arith, topped-fits l r.1 us (20 * trees_size ds) (20 * trees_size ts) (omega (arith, trees-fit heads m named Anywhere 0 0 ds f.directives)) (trees-within r.0 i ts f.list) on)

plain-names : (contexts : List Text) → AreNames (plainly_used contexts)
plain-names contexts = record { context = λ n h. refl; error = λ n h. refl; word = λ x h. refl }

pub law_topped_weighs_proof : LawToppedWeighs
law_topped_weighs_proof p heads contexts names b form = program-fits heads (plainly_used contexts) (plain-names contexts) b names (listed p (program-is p form) form) form

pub law_topped_alone_weighs_proof : LawToppedAloneWeighs
law_topped_alone_weighs_proof p heads contexts names b form = alone-fits heads (plainly_used contexts) (plain-names contexts) b names (listed p (program-is p form) form) form
