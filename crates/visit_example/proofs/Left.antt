-- What is left: a test of kinds tells the same of a tree and of what is seen of it.
use Rattle.std.proofs.Common.{◌≡◌, ◌∙◌, ℕ, Bool, false, true, true≢false, refl, sym, Option}
use Rattle.std.specs.Prelude.{◌||◌}
use Rattle.es_tree.specs.Tree.{Tree, node, Label, Fields, done, ◌then◌, Field, missing, one, many, statements, Trees, empty, ◌before◌}
use Rattle.es_tree.specs.Walks.{any_in_field, any_in_fields, any_in_trees, any_node}
use Rattle.es_tree.specs.Words.{Text}
use Rattle.es_tree.specs.declared.ast_type.AstType.{AstType}
use Rattle.es_tree.specs.declared.ast_type.AstType.TheVariants.{DebuggerStatement}
use Rattle.es_resolution.specs.Seen.{seen, seen_among, seen_by, seen_in, seen_marks}
use Rattle.visit_example.specs.Removals.{is_debugger}

by-kind : (k : AstType) (l m : Label) (fs gs : Fields) → is_debugger k l fs ≡ is_debugger k m gs
by-kind DebuggerStatement l m fs gs = refl
by-kind _ l m fs gs = refl

module _ (names : ℕ → Text → Option ℕ) where
  mutual
    any-seen : (t : Tree) → any_node is_debugger (seen names t) ≡ any_node is_debugger t
    any-seen (node k l fs) = λ i. by-kind k (record l { id = 0; marks = seen_marks names k l fs }) l (seen_in names fs) fs i || any-seen-in fs i

    any-seen-in : (fs : Fields) → any_in_fields is_debugger (seen_in names fs) ≡ any_in_fields is_debugger fs
    any-seen-in done = refl
    any-seen-in (f then fs) = λ i. any-seen-by f i || any-seen-in fs i

    any-seen-by : (f : Field) → any_in_field is_debugger (seen_by names f) ≡ any_in_field is_debugger f
    any-seen-by missing = refl
    any-seen-by (one t) = any-seen t
    any-seen-by (many ts) = any-seen-among ts
    any-seen-by (statements ts) = any-seen-among ts

    any-seen-among : (ts : Trees) → any_in_trees is_debugger (seen_among names ts) ≡ any_in_trees is_debugger ts
    any-seen-among empty = refl
    any-seen-among (t before ts) = λ i. any-seen t i || any-seen-among ts i

  alone : (b : Bool) → (b || false) ≡ false → b ≡ false
  alone true e = absurd (true≢false e)
  alone false e = refl

  pub none-left : (ts : Trees) → any_in_fields is_debugger (statements (seen_among names ts) then done) ≡ false → any_in_trees is_debugger ts ≡ false
  none-left ts e = sym (any-seen-among ts) ∙ alone (any_in_trees is_debugger (seen_among names ts)) e
