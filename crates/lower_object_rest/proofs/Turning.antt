-- A row at a declarator: what it leaves has form, since the rule keeps form, and is as well known as what was there.
use Rattle.std.proofs.Common.{refl, subst, ◌∷◌, ◌≡◌, []}
use Rattle.std.proofs.lemmas.Bool.{and_from}
use Rattle.std.specs.Prelude.{None, Some, codes, false, true}
use Rattle.es_tree.specs.HasForm.{has_form, trees_form}
use Rattle.es_tree.specs.Tree.{Label, Tree, Trees, done, empty, many, ◌before◌, ◌then◌}
use Rattle.es_tree.specs.declared.ast_type.AstType.TheVariants.{VariableDeclaration}
use Rattle.es_tree.specs.declared.table.Sort.TheVariants.{Statement as s-Statement, VariableDeclarator as s-VariableDeclarator}
use Rattle.es_tree.proofs.NodeForm.{has_form-node}
use Rattle.es_steps.specs.Nodes.{joined_trees, made}
use Rattle.es_steps.specs.Open.{no_additions, nothing_pending, opened}
use Rattle.es_steps.specs.Steps.{Step, Steps, Whole, ledger, the_program}
use Rattle.es_steps.specs.Steps.Step.{acts}
use Rattle.es_steps.specs.Steps.Steps.{goes, stays}
use Rattle.es_steps.proofs.FormLists.{first-formed}
use Rattle.es_steps.proofs.FormMembers.{formed-first}
use Rattle.es_steps.proofs.FormParts.{no-span}
use Rattle.es_steps.proofs.Lists.{joined-empty}
use Rattle.es_steps.proofs.Written.{joined-twice}
use Rattle.es_changes.specs.Moments.{Moment, whole_at}
use Rattle.es_valid_rests.proofs.RestFormsDeclared.{declaration-parts}
use Rattle.es_rest_rows.specs.RestRows.{RestWalkRow, declaring}
use Rattle.es_rest_shapes.specs.RestShapes.{any_tree, is_rest_declarator}
use Rattle.lower_object_rest.specs.Declarators.{AreKnown}
use Rattle.lower_object_rest.specs.Nested.{Turns}
use Rattle.lower_object_rest.specs.Rule.{keeps_form}
use Rattle.lower_object_rest.proofs.Clear.{AreClear}
use Rattle.lower_object_rest.proofs.Composition.{known-parts, settled-known}
use Rattle.lower_object_rest.proofs.Steps.{RowAt}

-- a declaration by `var`
abbrev by_var : Label
by_var = made (Some (codes "var") ∷ []) []

declaration-formed : (d : Tree) → has_form s-VariableDeclarator d ≡ true → has_form s-Statement (declaring by_var (d before empty)) ≡ true
declaration-formed d h =
    let span = no-span (Some (codes "var") ∷ []) [] in
    has_form-node s-Statement VariableDeclaration by_var (many (d before empty) then done) (record {
      sort = refl;
      texts = refl;
      flags = refl;
      start = span.start;
      stop = span.stop;
      agree = refl;
      children = and_from (trees_form s-VariableDeclarator s-VariableDeclarator (d before empty)) true (formed-first s-VariableDeclarator d empty h refl) refl;
    })

row-formed : (w v : Whole) (d : Tree) (es : Trees) → RowAt w d v es → has_form s-VariableDeclarator d ≡ true → trees_form s-VariableDeclarator s-VariableDeclarator es ≡ true
row-formed w v d es row h =
    let here = row the_program by_var empty empty refl refl refl nothing_pending None no_additions in
    let left = (keeps_form the_program (ledger w nothing_pending None no_additions) (ledger v nothing_pending None no_additions) (declaring by_var (d before empty)) (declaring by_var (joined_trees es empty)) s-Statement (λ e. absurd (cc e)) here (declaration-formed d h)).formed in
    subst (λ (ts : Trees). trees_form s-VariableDeclarator s-VariableDeclarator ts ≡ true) (joined-empty es) (declaration-parts s-Statement by_var (joined_trees es empty) left)

-- The first of what it leaves have no pattern with a rest.
module _ (a b : Moment) (d : Tree) (us es : Trees) (row : AreKnown (d before empty) → RowAt (whole_at a) d (whole_at b) (joined_trees us es)) (clear : AreKnown (d before empty) → AreClear (joined_trees us es)) (none : AreKnown (d before empty) → any_tree is_rest_declarator us ≡ false) where
  all-known : AreKnown (d before empty) → AreKnown (joined_trees us es)
  all-known k =
      let formed = (first-formed s-VariableDeclarator d empty k.formed).0 in
      record { formed = row-formed (whole_at a) (whole_at b) d (joined_trees us es) (row k) formed; strays = (clear k).strays; inside = (clear k).inside }

  pub row-turns : Turns a (d before empty) b us es
  row-turns = record {
    steps = λ k n m cs fs inside earlier later q x y.
        subst (λ (ts : Trees). Steps (Step RestWalkRow n) (ledger (whole_at a) q x y) (opened (declaring m (joined_trees cs (d before fs)))) (ledger (whole_at b) q x y) (opened (declaring m (joined_trees cs ts)))) (joined-twice us es fs)
        (goes (acts _ _ (row k n m cs fs inside earlier later q x y)) stays);
    settled = λ k. settled-known us (known-parts us es (all-known k)).0 (none k);
    known = λ k. (known-parts us es (all-known k)).1;
  }
