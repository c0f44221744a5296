-- What a statement of the list weighs once it stands inside or outside, or in part: no more than it weighed and spared, and 38 less where it declares by
-- `using`. What an export weighs comes out of its own node, too, and out of the names that it declares. And what the program weighs with the `try`.
use Rattle.std.proofs.Common.{◌≡◌, ◌≤◌, ℕ, refl, arith, List, length}
use Rattle.std.specs.Prelude.{Bool, true, false, ◌+◌, ◌*◌, ◌&&◌, if◌then◌else◌}
use Rattle.std.proofs.lemmas.Bool.{and_parts}
use Rattle.es_tree.specs.Tree.{Tree, node, Label, Fields, done, ◌then◌, missing, one, many, statements, Trees, empty, ◌before◌, kind_of}
use Rattle.es_tree.specs.Words.{Text}
use Rattle.es_tree.specs.declared.ast_type.AstType.{AstType}
use Rattle.es_tree.specs.declared.ast_type.AstType.TheVariants.{ClassDeclaration, ExportDefaultDeclaration, ExportNamedDeclaration, Program, VariableDeclaration}
use Rattle.es_steps.specs.Nodes.{joined_trees}
use Rattle.es_pattern_moves.specs.Weights.{weighed, weighed_among, weighed_in}
use Rattle.es_using_rows.specs.Used.{tried, used_declarators}
use Rattle.es_using_rows.specs.UsingPlaces.{has_value, have_values, is_used, is_using_word}
use Rattle.es_using_rows.proofs.UsedSize.{AreNames, declarators-weigh, spare, tried-weighs, using-leaves}
use Rattle.es_export_splits.proofs.SplitWeights.{specifiers-weigh}
use Rattle.es_using_modules.specs.ModuleTops.{Makes, by_var, declared_inside, default_inside, default_local, inside, is_function, left_outside, moved_inside, names_declared, outside, plainly, stays_outside, topped}

abbrev pub is_exported : AstType → Bool
is_exported ExportDefaultDeclaration = true
is_exported ExportNamedDeclaration = true
is_exported _ = false

joined-weigh : (ts us : Trees) → weighed_among (joined_trees ts us) ≡ weighed_among ts + weighed_among us
joined-weigh empty us = omega arith
joined-weigh (t before ts) us = omega (arith, joined-weigh ts us)

module _ (b : Bool) (xs : List Text) where
  abbrev m : Makes
  m = plainly b xs

  named : AreNames m.used
  named = record { context = λ n h. refl; error = λ n h. refl; word = λ x h. refl }

  -- what stands outside of a statement that moves, and all that a statement becomes
  abbrev left : Tree → ℕ
  left t = weighed_among (left_outside m t empty)

  abbrev pub moves : Tree → ℕ
  moves t = if stays_outside t then weighed t else weighed (moved_inside m t) + left t

  -- DECLARATIONS

  declared-weighs : (t : Tree) → weighed (declared_inside m t) ≤ weighed t + spare t
  declared-weighs (node VariableDeclaration l (many ds then done)) = at (is_using_word l.texts)
    where
      at : (c : Bool) → let t : Tree = node VariableDeclaration l (many ds then done) in weighed (node VariableDeclaration (by_var l) (many (if c then used_declarators m.used 0 ds else ds) then done)) ≤ weighed t + spare t
      at true = omega (arith, declarators-weigh m.used named 0 ds)
      at false = omega arith
  declared-weighs (node ClassDeclaration l (one c then fs)) = omega arith
  declared-weighs _ = omega arith

  pub plain-moves : (t : Tree) → is_exported (kind_of t) ≡ false → moves t ≤ weighed t + spare t
  plain-moves (node ExportDefaultDeclaration l fs) e = absurd (cc e)
  plain-moves (node ExportNamedDeclaration l fs) e = absurd (cc e)
  plain-moves (node k l fs) e = omega (arith, declared-weighs (node k l fs))

  pub using-moves : (t : Tree) → is_used t ≡ true → moves t + 38 ≤ weighed t + spare t
  using-moves (node VariableDeclaration l (many (d before ds) then done)) h = at (is_using_word l.texts) (and_parts (is_using_word l.texts) (has_value d && have_values ds) h).0
    where
      at : (c : Bool) → c ≡ true → let t : Tree = node VariableDeclaration l (many (d before ds) then done) in
          weighed (node VariableDeclaration (by_var l) (many (if c then used_declarators m.used 0 (d before ds) else (d before ds)) then done)) + 0 + 38 ≤ weighed t + spare t
      at true e = omega (arith, using-leaves m.used named 0 (node VariableDeclaration l (many (d before ds) then done)) h)
      at false e = absurd (cc e)
  using-moves _ h = absurd (cc h)

  -- EXPORTS

  pub named-moves : (l : Label) (d : Tree) (fs : Fields) → moves (node ExportNamedDeclaration l (one d then fs)) ≤ 2 + weighed d + spare d + weighed_in fs + 6 * length (names_declared d)
  named-moves l d fs = at (is_function d)
    where
      at : (c : Bool) → let t : Tree = node ExportNamedDeclaration l (one d then fs) in (if c then weighed t else weighed (declared_inside m d) + left t) ≤ 2 + weighed d + spare d + weighed_in fs + 6 * length (names_declared d)
      at true = omega arith
      at false = omega (arith, declared-weighs d, specifiers-weigh (names_declared d))

  -- a variable inside, and its name outside
  default-weighs : (t d : Tree) → weighed (default_inside m t d) + weighed (default_local m t d) ≤ 8 + weighed d
  default-weighs t (node ClassDeclaration l (one c then fs)) = omega arith
  default-weighs t (node ClassDeclaration l (missing then fs)) = omega arith
  default-weighs t _ = omega arith

  pub default-moves : (l : Label) (d : Tree) (fs : Fields) → moves (node ExportDefaultDeclaration l (one d then fs)) ≤ 14 + weighed d + weighed_in fs
  default-moves l d fs = at (is_function d)
    where
      at : (c : Bool) → let t : Tree = node ExportDefaultDeclaration l (one d then fs) in (if c then weighed t else weighed (default_inside m t d) + left t) ≤ 14 + weighed d + weighed_in fs
      at true = omega arith
      at false = omega (arith, default-weighs (node ExportDefaultDeclaration l (one d then fs)) d)

  -- LISTS

  abbrev pub cost : Trees → ℕ
  cost ts = weighed_among (outside m ts) + weighed_among (inside m ts)

  left-before : (t : Tree) (ts : Trees) → weighed_among (left_outside m t ts) ≡ left t + weighed_among ts
  left-before (node ExportNamedDeclaration l (one d then fs)) ts = omega arith
  left-before (node ExportDefaultDeclaration l (one d then fs)) ts = omega arith
  left-before _ ts = omega arith

  pub cost-before : (t : Tree) (ts : Trees) → cost (t before ts) ≡ moves t + cost ts
  cost-before t ts = at (stays_outside t)
    where
      at : (c : Bool) → weighed_among (if c then t before outside m ts else left_outside m t (outside m ts)) + weighed_among (if c then inside m ts else moved_inside m t before inside m ts) ≡ (if c then weighed t else weighed (moved_inside m t) + left t) + cost ts
      at true = omega arith
      at false = omega (arith, left-before t (outside m ts))

  -- A PROGRAM
  pub topped-weighs : (l : Label) (ds ts : Trees) → weighed (topped m (node Program l (many ds then statements ts then done))) ≡ 50 + weighed_among ds + cost ts
  topped-weighs l ds ts =
      let p : Tree = node Program l (many ds then statements ts then done) in
      omega (arith, joined-weigh (outside m ts) (tried m.used 0 p (inside m ts) before empty), tried-weighs m.used named 0 p (inside m ts))
