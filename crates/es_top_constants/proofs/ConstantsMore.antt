-- The law of programs that declare constants at their top: one step of the rule, behind the imports that are there.
use Rattle.std.proofs.Common.{◌≡◌, refl, sym, subst, List, [], ◌∷◌}
use Rattle.std.specs.Prelude.{true, codes, map}
use Rattle.es_tree.specs.HasForm.{has_form}
use Rattle.es_tree.specs.StaticRules.{breaks}
use Rattle.es_tree.specs.Tree.{Tree, Label, Field, Trees, empty, ◌before◌, trees}
use Rattle.es_tree.specs.declared.table.Sort.TheVariants.{Program as s-Program}
use Rattle.es_semantic.specs.declared.place.Role.TheVariants.{Top}
use Rattle.es_resolution.specs.Resolved.{IsResolved, ResolvedAll}
use Rattle.es_module_names.specs.Laws.{SameOutside}
use Rattle.es_module_names.specs.Modules.{exported, request, star_request}
use Rattle.es_steps.specs.Laws.{IsWellBound, nothing_beside}
use Rattle.es_steps.specs.Nodes.{joined_trees}
use Rattle.es_steps.specs.Open.{after_imports, opened}
use Rattle.es_steps.specs.Steps.{Step, Steps, Whole, the_program}
use Rattle.es_steps.specs.Steps.Steps.{goes, stays}
use Rattle.es_steps.proofs.Reached.{bindings-keep}
use Rattle.es_steps.proofs.StepsKept.{reached-keeps}
use Rattle.es_steps.proofs.Written.{body_place, resolved-parts, the_role}
use Rattle.es_top_imports.specs.Laws.{AreFound, AreNew, list_place, with_each}
use Rattle.es_top_imports.proofs.ImportsMore.{Split, split, splits, unread}
use Rattle.es_top_imports.proofs.TopForms.{IsProgram, is_program, program-formed, program-is, program_with}
use Rattle.es_top_imports.proofs.TopStatic.{IsTop, breaks-none}
use Rattle.es_top_imports.proofs.TopSteps.{list-step}
use Rattle.es_top_constants.specs.Laws.{AreLists, DeclaresMore, LawConstantsMore, names_of}
use Rattle.es_top_constants.specs.TopConstants.{Constant, declarator_of, with_constants}
use Rattle.es_top_constants.proofs.ConstantRules.{ConstantRule, constants-lawful, constants-write, declares}
use Rattle.es_top_constants.proofs.Constants.{constants-top, texts_of, the_constants}
use Rattle.es_top_constants.proofs.EachNew.{texts-fresh}

-- names are found in the list that declares them
found : (t : Tree) (cs : List Constant) → ResolvedAll (the_role (codes "const")) (body_place (list_place t)) (trees (map declarator_of cs)) → AreFound t (names_of cs)
found t [] h = tt
found t (c ∷ cs) h = (sym h.0.2.0.0.0, found t cs h.1)

-- SOME

module _ (w : Whole) (l : Label) (d : Field) (before_it after_it : Trees) (c : Constant) (cs : List Constant) where
  abbrev statement : Tree
  statement = the_constants (c ∷ cs)

  abbrev old_list : Trees
  old_list = joined_trees before_it after_it

  abbrev new_list : Trees
  new_list = joined_trees before_it (statement before after_it)

  abbrev old : Tree
  old = program_with l d old_list

  abbrev new : Tree
  new = program_with l d new_list

  abbrev after : Whole
  after = with_each (names_of (c ∷ cs)) w

  outside : SameOutside old new
  outside = record { requests = unread request before_it (statement before empty) after_it refl; stars = unread star_request before_it (statement before empty) after_it refl; exports = unread exported before_it (statement before empty) after_it refl }

  found-there : IsResolved new → AreFound new (names_of (c ∷ cs))
  found-there h = found new (c ∷ cs) (resolved-parts Top (list_place new) before_it (statement before after_it) h.2.1.0).1.0.2.0

  some : has_form s-Program old ≡ true → breaks old ≡ [] → IsWellBound w old → AreNew w.in_use w.free_symbol (names_of (c ∷ cs)) → AreLists w (c ∷ cs) → DeclaresMore (c ∷ cs) w old new
  some f e bound fresh lists =
      let top : IsTop true (texts_of (c ∷ cs)) l statement = constants-top w l c cs fresh lists in
      let step : Step ConstantRule the_program (nothing_beside w) (opened old) (nothing_beside after) (opened new) = list-step ConstantRule w after l d old_list new_list (declares before_it after_it (c ∷ cs) fresh lists) in
      let steps : Steps (Step ConstantRule the_program) (nothing_beside w) (opened old) (nothing_beside after) (opened new) = goes step stays in
      let still : IsWellBound after new = reached-keeps ConstantRule constants-lawful constants-write old new w after refl bound steps in
      record {
        form = program-formed l d before_it after_it statement top.form f;
        kept = breaks-none w l d before_it after_it statement true (texts_of (c ∷ cs)) (texts-fresh w.in_use w.free_symbol (names_of (c ∷ cs)) fresh) top f e bound.named;
        bound = still;
        bindings = bindings-keep ConstantRule constants-lawful constants-write old new w after refl bound steps;
        found = found-there still.resolved;
        outside = outside;
      }

-- THE LAW

of-program : (cs : List Constant) (w : Whole) (p : Tree) → IsProgram p → has_form s-Program p ≡ true → breaks p ≡ [] → IsWellBound w p → AreNew w.in_use w.free_symbol (names_of cs) → AreLists w cs → DeclaresMore cs w p (with_constants cs p)
of-program [] w p (is_program l d ts) f e bound fresh lists = record { form = f; kept = e; bound = bound; bindings = bindings-keep ConstantRule constants-lawful constants-write (program_with l d ts) (program_with l d ts) w w refl bound stays; found = tt; outside = record { requests = refl; stars = refl; exports = refl } }
of-program (c ∷ cs) w p (is_program l d ts) f e bound fresh lists = at (split ts)
  where
    at : Split ts → DeclaresMore (c ∷ cs) w (program_with l d ts) (program_with l d (after_imports (the_constants (c ∷ cs) before empty) ts))
    at (splits before_it after_it h) =
        let given : (P : Tree → Type 0) → P (program_with l d ts) → P (program_with l d (joined_trees before_it after_it)) = λ P. subst (λ (us : Trees). P (program_with l d us)) h.same in
        subst (λ (us : Trees). DeclaresMore (c ∷ cs) w (program_with l d ts) (program_with l d us)) (sym (h.behind (the_constants (c ∷ cs) before empty)))
        (subst (λ (us : Trees). DeclaresMore (c ∷ cs) w (program_with l d us) (program_with l d (joined_trees before_it (the_constants (c ∷ cs) before after_it)))) (sym h.same)
        (some w l d before_it after_it c cs (given (λ p. has_form s-Program p ≡ true) f) (given (λ p. breaks p ≡ []) e) (given (λ p. IsWellBound w p) bound) fresh lists))

pub law_constants_more_proof : LawConstantsMore
law_constants_more_proof cs w p f e bound fresh lists = of-program cs w p (program-is p f) f e bound fresh lists
