-- What a source becomes after its other `using` is lowered: the top of a module that declares so becomes a `try`, or it stays as it is; there is one such
-- program.
use Rattle.std.proofs.Common.{◌≡◌, inl, inr, ◌∙◌, ◌*◌, ◌≤◌, List, [], ap, refl, subst, sym, true≢false}
use Rattle.std.proofs.lemmas.Bool.{and_parts, not-true, or_right}
use Rattle.std.specs.Prelude.{Bool, true, false, ◌&&◌, None, is_some, not}
use Rattle.es_tree.specs.Constructs.{is_using}
use Rattle.es_tree.specs.Fresh.{is_among}
use Rattle.es_tree.specs.HasForm.{has_form}
use Rattle.es_tree.specs.Names.{names_of}
use Rattle.es_tree.specs.StaticRules.{breaks}
use Rattle.es_tree.specs.Tree.{Tree, node, tree_size}
use Rattle.es_tree.specs.Walks.{any_node}
use Rattle.es_tree.specs.Words.{Text}
use Rattle.es_tree.specs.declared.options.EnvOptions.{EnvOptions}
use Rattle.es_tree.specs.declared.table.Sort.TheVariants.{Program as s-Program}
use Rattle.es_semantic.specs.RolesOf.{reads}
use Rattle.es_semantic.specs.SymbolsOf.{symbols_of}
use Rattle.es_resolution.specs.Laws.{source}
use Rattle.es_resolution.specs.Resolved.{nowhere}
use Rattle.es_steps.specs.AllRules.{AllRules}
use Rattle.es_steps.specs.CoreBridge.{first_whole}
use Rattle.es_steps.specs.Identifiers.{Passes}
use Rattle.es_steps.specs.Steps.{Ledger, Site, Spot}
use Rattle.es_reached.proofs.Results.{source-well-bound}
use Rattle.es_rest_shapes.specs.HelperNames.{binds_helpers}
use Rattle.es_rest_rows.proofs.HelperNames.{FindsNone, helpers_name, is_other_name, place-none, unbound-passes}
use Rattle.es_top_imports.specs.Laws.{list_place}
use Rattle.es_helper_imports.proofs.BareLists.{none-found}
use Rattle.es_top_names.proofs.RequireFree.{found-after}
use Rattle.es_top_names.proofs.SourceList.{source-found}
use Rattle.es_pattern_moves.specs.Moved.{plainly as plainly_headed}
use Rattle.es_pattern_moves.specs.Weights.{weighed}
use Rattle.es_using_heads.specs.Heads.{headed}
use Rattle.es_using_rows.specs.Used.{plainly as plainly_used, used}
use Rattle.es_using_rows.specs.declared.standing.Standing.TheVariants.{Anywhere}
use Rattle.es_using_rows.proofs.SourceUnbound.{source-unbound}
use Rattle.es_export_splits.specs.Splits as exports
use Rattle.es_using_modules.specs.Laws.{IsTopped, top_rules}
use Rattle.es_using_modules.specs.ModuleTops.{has_default, plainly, topped, uses_at_top}
use Rattle.es_using_modules.proofs.TopAgree.{law_one_topped_proof}
use Rattle.es_using_modules.proofs.TopLaws.{law_topped_proof}
use Rattle.es_using_modules.proofs.TopWeights.{law_topped_alone_weighs_proof, law_topped_weighs_proof}
use Rattle.es_lowered.specs.Used.{IsUsed, used_rules}
use Rattle.es_lowered.proofs.Stays.{stays-as}
use Rattle.lower_driver.specs.Splits.{Splits}
use Rattle.lower_driver.specs.Tops.{Tops, lowers_top}
use Rattle.lower_driver.specs.Uses.{Heads, Uses, lowers_using, using_there}
use Rattle.lower_driver.proofs.HeadNames.{headed-unbound}
use Rattle.lower_driver.proofs.Used.{all-weight}

-- ONE PROGRAM

pub one-topped : (on : Bool) (p q r : Tree) (names others : List Text) → Tops on p q names → Tops on p r others → q ≡ r
one-topped true p q r names others a b = (law_one_topped_proof (first_whole p).in_use p q r names others (a.goes refl) (b.goes refl)).0
one-topped false p q r names others a b = (a.stays refl).0 ∙ sym (b.stays refl).0

-- WHERE NONE IS LOWERED

pub tops-itself : (on : Bool) (p : Tree) → on ≡ false → Tops on p p []
tops-itself on p off = record { goes = λ e. absurd (true≢false (sym e ∙ off)); stays = λ e. (refl, refl) }

pub untopped-off : (o : EnvOptions) (p q : Tree) → lowers_using o p ≡ false → lowers_top o p q ≡ false
untopped-off o p q off = ap (λ b. b && uses_at_top q) off

-- told by a flag that is the test
pub tops-as : {a b : Bool} {v z : Tree} {names : List Text} → a ≡ b → Tops (a && uses_at_top v) v z names → Tops (b && uses_at_top v) v z names
tops-as {v = v} {z = z} {names = names} e y = subst (λ (c : Bool). Tops (c && uses_at_top v) v z names) e y

-- NO `babelHelpers` IS FOUND from the list of a program that doesn't bind it, nor from that of what its `using` leaves

in-a-list : (t : Tree) → Passes is_other_name t → FindsNone (list_place t)
in-a-list (node k l fs) h = place-none nowhere reads k l fs h refl 1

found-none : (t : Tree) → has_form s-Program t ≡ true → breaks t ≡ [] → binds_helpers (symbols_of t) ≡ false → (list_place (source t)).scope helpers_name ≡ None
found-none t form right none = in-a-list (source t) (unbound-passes (source t) (source-well-bound t form right).class_names (source-unbound t form right none))

among-all : (o : EnvOptions) (n : Site) (s : Ledger) (x : Spot) (s' : Ledger) (y : Spot) → used_rules o.es2026.explicit_resource_management n s x s' y → AllRules o n s x s' y
among-all o n s x s' y r = inr (inr (inr (inr (inl r))))

used-none : (o : EnvOptions) (t v : Tree) (names : List Text) → has_form s-Program t ≡ true → breaks t ≡ [] → binds_helpers (symbols_of t) ≡ false → IsUsed o.es2026.explicit_resource_management t v names → (list_place (source v)).scope helpers_name ≡ None
used-none o t v names form right none h =
    let there = found-after o (used_rules o.es2026.explicit_resource_management) (among-all o) t v names form right h helpers_name (or_right (is_among (names_of t) helpers_name) true refl) in
    none-found ((list_place (source v)).scope helpers_name) (there ∙ ap is_some (sym (source-found t form helpers_name) ∙ found-none t form right none))

-- WHAT IT IS

module _ (o : EnvOptions) (p t v : Tree) (heads contexts : List Text) (h : Heads (lowers_using o p) p t heads) (there : IsUsed (lowers_using o p) p t heads) (after : IsUsed (lowers_using o p) t v contexts) where
  asked : lowers_using o p ≡ true → o.es2026.explicit_resource_management ≡ true
  asked e = (and_parts o.es2026.explicit_resource_management (any_node is_using p) (and_parts (using_there o p) (not (binds_helpers (symbols_of p))) e).0).0

  free : lowers_using o p ≡ true → binds_helpers (symbols_of p) ≡ false
  free e = not-true (binds_helpers (symbols_of p)) (and_parts (using_there o p) (not (binds_helpers (symbols_of p))) e).1

  pub is-topped : (q : Tree) (names : List Text) → Tops (lowers_top o p v) v q names → IsTopped (lowers_top o p v) v q names
  is-topped q names m = at (lowers_top o p v) refl
    where
      at : (b : Bool) → lowers_top o p v ≡ b → IsTopped (lowers_top o p v) v q names
      at true e =
          let parts = and_parts (lowers_using o p) (uses_at_top v) e in
          let unbound-there = headed-unbound p t heads (h.goes parts.0) (free parts.0) in
          let so : IsUsed o.es2026.explicit_resource_management t v contexts = subst (λ (b : Bool). IsUsed b t v contexts) (parts.0 ∙ sym (asked parts.0)) after in
          let none = used-none o t v contexts there.form there.kept unbound-there so in
          subst (λ (b : Bool). IsTopped b v q names) (sym e) (law_topped_proof v q names after.form after.kept parts.1 none (m.goes e))
      at false e =
          let same = m.stays e in
          subst (λ (z : Tree). IsTopped (lowers_top o p v) v z names) (sym same.0) (subst (λ (xs : List Text). IsTopped (lowers_top o p v) v v xs) (sym same.1) (stays-as (top_rules (lowers_top o p v)) v after.form after.kept))

-- SIZE: what it weighs

weighs-split : (s v : Tree) (heads contexts names : List Text) → has_form s-Program s ≡ true → v ≡ (used (plainly_used contexts) Anywhere 0 (headed (plainly_headed heads) 0 (exports.split exports.plainly s)).1).1 → uses_at_top v ≡ true → weighed (topped (plainly (has_default v) names) v) ≤ 20 * tree_size s
weighs-split s v heads contexts names form e here = subst (λ (z : Tree). weighed (topped (plainly (has_default v) names) z) ≤ 20 * tree_size s) (sym e) (law_topped_weighs_proof s heads contexts names (has_default v) form (subst (λ (z : Tree). uses_at_top z ≡ true) e here))

weighs-alone : (s v : Tree) (heads contexts names : List Text) → has_form s-Program s ≡ true → v ≡ (used (plainly_used contexts) Anywhere 0 (headed (plainly_headed heads) 0 s).1).1 → uses_at_top v ≡ true → weighed (topped (plainly (has_default v) names) v) ≤ 20 * tree_size s
weighs-alone s v heads contexts names form e here = subst (λ (z : Tree). weighed (topped (plainly (has_default v) names) z) ≤ 20 * tree_size s) (sym e) (law_topped_alone_weighs_proof s heads contexts names (has_default v) form (subst (λ (z : Tree). uses_at_top z ≡ true) e here))

lowered-weight : (first : Bool) (s p t v : Tree) (heads contexts names : List Text) → has_form s-Program s ≡ true → Splits first s p → Heads true p t heads → Uses true t v contexts → uses_at_top v ≡ true → weighed (topped (plainly (has_default v) names) v) ≤ 20 * tree_size s
lowered-weight true s p t v heads contexts names form x h u here =
    weighs-split s v heads contexts names form ((u.goes refl).tree ∙ ap (λ (z : Tree). (used (plainly_used contexts) Anywhere 0 z).1) ((h.goes refl).tree ∙ ap (λ (z : Tree). (headed (plainly_headed heads) 0 z).1) (x.goes refl))) here
lowered-weight false s p t v heads contexts names form x h u here =
    weighs-alone s v heads contexts names form ((u.goes refl).tree ∙ ap (λ (z : Tree). (used (plainly_used contexts) Anywhere 0 z).1) ((h.goes refl).tree ∙ ap (λ (z : Tree). (headed (plainly_headed heads) 0 z).1) (x.stays refl))) here

pub top-weight : (first on here : Bool) (s p t v z : Tree) (heads contexts names : List Text) → has_form s-Program s ≡ true → weighed s ≤ 7 * tree_size s → here ≡ uses_at_top v → Splits first s p → Heads on p t heads → Uses on t v contexts → Tops (on && here) v z names → weighed z ≤ 20 * tree_size s
top-weight first true true s p t v z heads contexts names form light e x h u m = rw (m.goes refl).tree (lowered-weight first s p t v heads contexts names form x h u (sym e))
top-weight first true false s p t v z heads contexts names form light e x h u m = rw (m.stays refl).0 (all-weight first true s p t v heads contexts form light x h u)
top-weight first false here s p t v z heads contexts names form light e x h u m = rw (m.stays refl).0 (all-weight first false s p t v heads contexts form light x h u)
