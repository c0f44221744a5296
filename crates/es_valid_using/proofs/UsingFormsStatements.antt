-- What `using` becomes in a switch and in the head of a `for` has form.
use Rattle.std.proofs.Common.{◌≡◌, refl, ◌∷◌, []}
use Rattle.std.specs.Prelude.{true, not, ◌||◌, Some, codes}
use Rattle.std.proofs.lemmas.Bool.{and_from}
use Rattle.es_tree.specs.HasForm.{has_form, is_of_sort, trees_form}
use Rattle.es_tree.specs.Tree.{Tree, node, Label, Field, done, ◌then◌, statements, Trees, empty, ◌before◌}
use Rattle.es_tree.specs.declared.ast_type.AstType.TheVariants.{ForStatement, LabeledStatement, SwitchCase, SwitchStatement, TryStatement}
use Rattle.es_tree.specs.declared.table.Sort.{Sort}
use Rattle.es_tree.specs.declared.table.Sort.TheVariants.{ForInit as s-ForInit, Program as s-Program, Statement as s-Statement, SwitchCase as s-SwitchCase}
use Rattle.es_tree.proofs.NodeForm.{node_form, has_form-node}
use Rattle.es_resolution.specs.Declarations.{Bound}
use Rattle.es_steps.specs.Rules.{next_name}
use Rattle.es_steps.specs.Steps.{Ledger, Site}
use Rattle.es_steps.specs.Steps.Spot.{at_node}
use Rattle.es_steps.specs.UsingBlocks.{error_of}
use Rattle.es_steps.specs.UsingLoops.{LoopUsing, UsesInHead, for_fields, labelled}
use Rattle.es_steps.specs.UsingLoops.LoopUsing.{of_loop}
use Rattle.es_steps.specs.UsingLoops.UsesInHead.{in_head, with_label}
use Rattle.es_steps.specs.UsingSwitches.{ConstantsInCases, SwitchUsing, switch_fields}
use Rattle.es_steps.specs.UsingSwitches.ConstantsInCases.{no_case, in_case}
use Rattle.es_steps.specs.UsingSwitches.SwitchUsing.{of_switch}
use Rattle.es_steps.proofs.FormLists.{first-formed}
use Rattle.es_steps.proofs.FormMembers.{formed-first}
use Rattle.es_steps.proofs.FormParts.{IsText, and-left, and-right}
use Rattle.es_valid_using.proofs.UsingForms.{constants-form, context-text, declaration-form, protected-form}
use Rattle.es_valid_using.proofs.UsingTrees.{or-first}

-- SORTS: where one of these may stand so may a `try`

switch-sorts : (s : Sort) → (not (is_of_sort s SwitchStatement) || is_of_sort s TryStatement) ≡ true
switch-sorts s-Program = refl
switch-sorts _ = refl

loop-sorts : (s : Sort) → (not (is_of_sort s ForStatement) || is_of_sort s TryStatement) ≡ true
loop-sorts s-Program = refl
loop-sorts _ = refl

label-sorts : (s : Sort) → (not (is_of_sort s LabeledStatement) || is_of_sort s TryStatement) ≡ true
label-sorts s-Program = refl
label-sorts _ = refl

module _ (c : Bound) (h : IsText c) where
  -- SWITCHES

  cases-form : (cs ds : Trees) → ConstantsInCases c cs ds → trees_form s-SwitchCase s-SwitchCase cs ≡ true → trees_form s-SwitchCase s-SwitchCase ds ≡ true
  cases-form cs ds no_case f = refl
  cases-form cs ds (in_case {l = l} {f = g} {ts = ts} {us = us} {cs = cs'} {ds = ds'} r rs) f =
      let parts = first-formed s-SwitchCase (node SwitchCase l (g then statements ts then done)) cs' f in
      let d = node_form s-SwitchCase SwitchCase l (g then statements ts then done) parts.0 in
      let list = constants-form c h ts us r (and-left _ true (and-right _ _ d.children)) in
      formed-first s-SwitchCase (node SwitchCase l (g then statements us then done)) ds'
      (has_form-node s-SwitchCase SwitchCase l (g then statements us then done) (record { sort = d.sort; texts = d.texts; flags = d.flags; start = d.start; stop = d.stop; agree = refl; children = and_from _ _ (and-left _ _ d.children) (and_from _ true list refl) }))
      (cases-form cs' ds' rs parts.1)

  switch-form : (a : Sort) (m : Label) (g : Field) (cs ds : Trees) → ConstantsInCases c cs ds → has_form a (node SwitchStatement m (switch_fields g cs)) ≡ true → has_form s-Statement (node SwitchStatement m (switch_fields g ds)) ≡ true
  switch-form a m g cs ds r f =
      let d = node_form a SwitchStatement m (switch_fields g cs) f in
      has_form-node s-Statement SwitchStatement m (switch_fields g ds) (record { sort = refl; texts = d.texts; flags = d.flags; start = d.start; stop = d.stop; agree = refl; children = and_from _ _ (and-left _ _ d.children) (and_from _ true (cases-form cs ds r (and-left _ true (and-right _ _ d.children))) refl) })

  -- LOOPS, with their labels

  head-form : (a : Sort) (t u : Tree) → UsesInHead c t u → has_form a t ≡ true → has_form s-Statement u ≡ true
  head-form a t u (in_head {m = m} {l = l} {ds = ds} {es = es} {f = x} {g = y} {h = z} e r) f =
      let new : Label = record l { texts = Some (codes "const") ∷ [] } in
      let d = node_form a ForStatement m (for_fields l ds x y z) f in
      has_form-node s-Statement ForStatement m (for_fields new es x y z) (record { sort = refl; texts = d.texts; flags = d.flags; start = d.start; stop = d.stop; agree = refl; children = and_from _ _ (declaration-form c h s-ForInit l ds es r (and-left _ _ d.children)) (and-right _ _ d.children) })
  head-form a t u (with_label {m = m} {k = k} {t = t'} {u = u'} r) f =
      let d = node_form a LabeledStatement m (labelled k t') f in
      has_form-node s-Statement LabeledStatement m (labelled k u') (record { sort = refl; texts = d.texts; flags = d.flags; start = d.start; stop = d.stop; agree = refl; children = and_from _ _ (and-left _ _ d.children) (and_from _ true (head-form s-Statement t' u' r (and-left _ true (and-right _ _ d.children))) refl) })

head-sort : (a : Sort) (c : Bound) (t u : Tree) → UsesInHead c t u → has_form a t ≡ true → is_of_sort a TryStatement ≡ true
head-sort a c t u (in_head {m = m} {l = l} {ds = ds} {f = x} {g = y} {h = z} e r) f = or-first (is_of_sort a ForStatement) (is_of_sort a TryStatement) (loop-sorts a) (node_form a ForStatement m (for_fields l ds x y z) f).sort
head-sort a c t u (with_label {m = m} {k = k} {t = t'} r) f = or-first (is_of_sort a LabeledStatement) (is_of_sort a TryStatement) (label-sorts a) (node_form a LabeledStatement m (labelled k t') f).sort

-- RULES

pub switch-using-form : (n : Site) (s s' : Ledger) (t u : Tree) (a : Sort) → SwitchUsing n s (at_node t) s' (at_node u) → has_form a t ≡ true → has_form a u ≡ true
switch-using-form n s s' t u a (of_switch {w = w} {m = m} {d = g} {cs = cs} {ds = ds} {c = c} has silent takes r) f =
    let text = context-text w c n.names takes in
    let sort = or-first (is_of_sort a SwitchStatement) (is_of_sort a TryStatement) (switch-sorts a) (node_form a SwitchStatement m (switch_fields g cs) f).sort in
    let new = node SwitchStatement m (switch_fields g ds) in
    protected-form (next_name w c) text a (error_of w) (new before empty) sort refl (formed-first s-Statement new empty (switch-form (next_name w c) text a m g cs ds r f) refl)

pub loop-using-form : (n : Site) (s s' : Ledger) (t u : Tree) (a : Sort) → LoopUsing n s (at_node t) s' (at_node u) → has_form a t ≡ true → has_form a u ≡ true
loop-using-form n s s' t v a (of_loop {w = w} {u = u} {c = c} place takes r) f =
    let text = context-text w c n.names takes in
    protected-form (next_name w c) text a (error_of w) (u before empty) (head-sort a (next_name w c) t u r f) refl (formed-first s-Statement u empty (head-form (next_name w c) text a t u r f) refl)
