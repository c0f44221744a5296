-- What stands in expressions and patterns declares nothing by `var`, outside functions and static blocks.
use Rattle.std.proofs.Common.{◌≡◌, refl}
use Rattle.std.specs.Prelude.{Bool, true, false, not, ◌&&◌, ◌||◌}
use Rattle.std.proofs.lemmas.Bool.{or_from}
use Rattle.es_tree.specs.HasForm.{has_form}
use Rattle.es_tree.specs.Tree.{Tree, node, Label, Fields}
use Rattle.es_tree.specs.Words.{Text}
use Rattle.es_tree.specs.declared.ast_type.AstType.{AstType}
use Rattle.es_tree.specs.declared.ast_type.AstType.TheVariants.{FunctionDeclaration, VariableDeclaration}
use Rattle.es_tree.specs.declared.table.Sort.{Sort}
use Rattle.es_resolution.specs.Declarations.{is_var_scope}
use Rattle.es_pattern_moves.specs.PatternMoves.{var_among, var_declares, var_here, var_in_field, var_in_fields}
use Rattle.es_pattern_moves.proofs.InnerTrees.{holds_inner, is_inner, tree-holds}

module _ (x : Text) where
  here-none : (k : AstType) (l : Label) (fs : Fields) → is_inner k ≡ true → var_here x k l fs ≡ false
  here-none VariableDeclaration l fs e = absurd (cc e)
  here-none FunctionDeclaration l fs e = absurd (cc e)
  here-none k l fs e = refl

  node-none : (k : AstType) (l : Label) (fs : Fields) → is_inner k ≡ true → (is_var_scope k ≡ false → var_in_fields x fs ≡ false) → var_declares x (node k l fs) ≡ false
  node-none k l fs e inside = at (is_var_scope k) inside
    where
      at : (b : Bool) → (b ≡ false → var_in_fields x fs ≡ false) → (not b && (var_here x k l fs || var_in_fields x fs)) ≡ false
      at true h = refl
      at false h = or_from (var_here x k l fs) (var_in_fields x fs) (here-none k l fs e) (h refl)

  pub tree-none : (s : Sort) (t : Tree) → holds_inner s ≡ true → has_form s t ≡ true → var_declares x t ≡ false
  tree-none = tree-holds (λ t. var_declares x t ≡ false) (λ bodies fs. var_in_fields x fs ≡ false) (λ b f. var_in_field x f ≡ false) (λ ts. var_among x ts ≡ false) (record {
    at_node = node-none;
    at_done = λ bodies. refl;
    at_then = λ bodies f fs h k. or_from (var_in_field x f) (var_in_fields x fs) h k;
    at_missing = λ b. refl;
    at_one = λ b t h. h;
    at_many = λ b ts h. h;
    at_empty = refl;
    at_before = λ t ts h k. or_from (var_declares x t) (var_among x ts) h k;
  })
