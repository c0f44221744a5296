-- Trees that are alike save in nodes of the kinds that are changed: it's so of each with itself, of one after another, and of what is seen
-- of them.
use Rattle.std.proofs.Common.{◌≡◌, ◌∙◌, refl, sym, ap, subst, true≢false}
use Rattle.std.specs.Prelude.{ℕ, Bool, true, false, List, ◌∷◌, [], Option, Some, None}
use Rattle.es_tree.specs.Scopes.{own_text}
use Rattle.es_tree.specs.Tree.{Tree, node, Label, Fields, done, ◌then◌, Field, missing, one, many, statements, Trees, empty, ◌before◌}
use Rattle.es_tree.specs.Words.{Text}
use Rattle.es_tree.specs.declared.ast_type.AstType.{AstType}
use Rattle.es_tree.specs.declared.ast_type.AstType.TheVariants.{ClassDeclaration, ClassExpression}
use Rattle.es_resolution.specs.Seen.{name_inside, seen, seen_among, seen_by, seen_in, seen_marks}
use Rattle.es_semantic.specs.NodeMarks.{scope_mark}
use Rattle.lower_nodes.specs.Nodes.{Alike, AlikeAmong, AlikeBy, AlikeIn}
use Rattle.lower_nodes.specs.Nodes.Alike.{changed, within}
use Rattle.lower_nodes.specs.Nodes.AlikeIn.{no_fields, fields_alike}
use Rattle.lower_nodes.specs.Nodes.AlikeBy.{both_missing, one_alike, many_alike, statements_alike}
use Rattle.lower_nodes.specs.Nodes.AlikeAmong.{no_trees, trees_alike}

module _ (c : AstType → Bool) where
  mutual
    pub alike-same : (t : Tree) → Alike c t t
    alike-same (node k l fs) = within (alike-same-in fs)

    pub alike-same-in : (fs : Fields) → AlikeIn c fs fs
    alike-same-in done = no_fields
    alike-same-in (f then fs) = fields_alike (alike-same-by f) (alike-same-in fs)

    pub alike-same-by : (f : Field) → AlikeBy c f f
    alike-same-by missing = both_missing
    alike-same-by (one t) = one_alike (alike-same t)
    alike-same-by (many ts) = many_alike (alike-same-among ts)
    alike-same-by (statements ts) = statements_alike (alike-same-among ts)

    pub alike-same-among : (ts : Trees) → AlikeAmong c ts ts
    alike-same-among empty = no_trees
    alike-same-among (t before ts) = trees_alike (alike-same t) (alike-same-among ts)

  -- one after another
  mutual
    pub alike-then : {t u v : Tree} → Alike c t u → Alike c u v → Alike c t v
    alike-then (changed e) (changed d) = changed e
    alike-then (changed e) (within h) = changed e
    alike-then (within h) (changed e) = changed e
    alike-then (within h) (within g) = within (alike-then-in h g)

    pub alike-then-in : {fs gs hs : Fields} → AlikeIn c fs gs → AlikeIn c gs hs → AlikeIn c fs hs
    alike-then-in no_fields no_fields = no_fields
    alike-then-in (fields_alike f h) (fields_alike g r) = fields_alike (alike-then-by f g) (alike-then-in h r)

    pub alike-then-by : {f g h : Field} → AlikeBy c f g → AlikeBy c g h → AlikeBy c f h
    alike-then-by both_missing both_missing = both_missing
    alike-then-by (one_alike h) (one_alike g) = one_alike (alike-then h g)
    alike-then-by (many_alike h) (many_alike g) = many_alike (alike-then-among h g)
    alike-then-by (statements_alike h) (statements_alike g) = statements_alike (alike-then-among h g)

    pub alike-then-among : {ts us vs : Trees} → AlikeAmong c ts us → AlikeAmong c us vs → AlikeAmong c ts vs
    alike-then-among no_trees no_trees = no_trees
    alike-then-among (trees_alike h r) (trees_alike g s) = trees_alike (alike-then h g) (alike-then-among r s)

  -- WHAT IS SEEN of them: the name of a class is the same

  module _ (names : ℕ → Text → Option ℕ) where
    same-name : {t u : Tree} → Alike c t u → own_text u ≡ own_text t
    same-name (changed e) = refl
    same-name (within h) = refl

    name-alike : (s : Option ℕ) {fs gs : Fields} → AlikeIn c fs gs → name_inside names s gs ≡ name_inside names s fs
    name-alike None no_fields = refl
    name-alike None (fields_alike h r) = refl
    name-alike (Some s) no_fields = refl
    name-alike (Some s) (fields_alike both_missing r) = refl
    name-alike (Some s) (fields_alike (one_alike h) r) = ap (names s) (same-name h)
    name-alike (Some s) (fields_alike (many_alike h) r) = refl
    name-alike (Some s) (fields_alike (statements_alike h) r) = refl

    marks-alike : (k : AstType) (l : Label) {fs gs : Fields} → AlikeIn c fs gs → seen_marks names k l gs ≡ seen_marks names k l fs
    marks-alike ClassDeclaration l h = ap (λ (x : Option ℕ). x ∷ []) (name-alike (scope_mark l) h)
    marks-alike ClassExpression l h = ap (λ (x : Option ℕ). x ∷ []) (name-alike (scope_mark l) h)
    marks-alike _ l h = refl

    -- the label of a node as it is seen, whose fields are alike
    abbrev pub seen_label : AstType → Label → Fields → Label
    seen_label k l fs = record l { id = 0; marks = seen_marks names k l fs }

    pub label-alike : (k : AstType) (l : Label) {fs gs : Fields} → AlikeIn c fs gs → seen_label k l gs ≡ seen_label k l fs
    label-alike k l h = ap (λ (ms : List (Option ℕ)). record l { id = 0; marks = ms }) (marks-alike k l h)

    module _ (declared : c ClassDeclaration ≡ false) (written : c ClassExpression ≡ false) where
      -- what is changed is no class
      changed-marks : (k : AstType) (l : Label) (fs gs : Fields) → c k ≡ true → seen_marks names k l gs ≡ seen_marks names k l fs
      changed-marks ClassDeclaration l fs gs e = absurd (true≢false (sym e ∙ declared))
      changed-marks ClassExpression l fs gs e = absurd (true≢false (sym e ∙ written))
      changed-marks _ l fs gs e = refl

      changed-seen : (k : AstType) (l : Label) (fs gs : Fields) → c k ≡ true → Alike c (seen names (node k l fs)) (seen names (node k l gs))
      changed-seen k l fs gs e = subst (λ (ms : List (Option ℕ)). Alike c (seen names (node k l fs)) (node k (record l { id = 0; marks = ms }) (seen_in names gs))) (sym (changed-marks k l fs gs e)) (changed e)

      within-seen : (k : AstType) (l : Label) (fs gs : Fields) → AlikeIn c fs gs → AlikeIn c (seen_in names fs) (seen_in names gs) → Alike c (seen names (node k l fs)) (seen names (node k l gs))
      within-seen k l fs gs h g = subst (λ (m : Label). Alike c (seen names (node k l fs)) (node k m (seen_in names gs))) (sym (label-alike k l h)) (within g)

      mutual
        pub alike-seen : {t u : Tree} → Alike c t u → Alike c (seen names t) (seen names u)
        alike-seen (changed {k = k} {l = l} {fs = fs} {gs = gs} e) = changed-seen k l fs gs e
        alike-seen (within {k = k} {l = l} {fs = fs} {gs = gs} h) = within-seen k l fs gs h (alike-seen-in h)

        pub alike-seen-in : {fs gs : Fields} → AlikeIn c fs gs → AlikeIn c (seen_in names fs) (seen_in names gs)
        alike-seen-in no_fields = no_fields
        alike-seen-in (fields_alike h r) = fields_alike (alike-seen-by h) (alike-seen-in r)

        pub alike-seen-by : {f g : Field} → AlikeBy c f g → AlikeBy c (seen_by names f) (seen_by names g)
        alike-seen-by both_missing = both_missing
        alike-seen-by (one_alike h) = one_alike (alike-seen h)
        alike-seen-by (many_alike h) = many_alike (alike-seen-among h)
        alike-seen-by (statements_alike h) = statements_alike (alike-seen-among h)

        pub alike-seen-among : {ts us : Trees} → AlikeAmong c ts us → AlikeAmong c (seen_among names ts) (seen_among names us)
        alike-seen-among no_trees = no_trees
        alike-seen-among (trees_alike h r) = trees_alike (alike-seen h) (alike-seen-among r)
