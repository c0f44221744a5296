-- The law of programs that import more: each statement goes behind the imports that are there, one after the other.
use Rattle.std.proofs.Common.{◌≡◌, refl, sym, ap, subst, ◌∙◌, List, [], ◌∷◌, ◌++◌}
use Rattle.std.specs.Prelude.{Bool, true, false, codes, map, if◌then◌else◌}
use Rattle.std.proofs.lemmas.List.{append_assoc}
use Rattle.es_tree.specs.HasForm.{has_form}
use Rattle.es_tree.specs.Names.{first_text}
use Rattle.es_tree.specs.StaticRules.{breaks}
use Rattle.es_tree.specs.Tree.{Tree, Label, Field, Trees, empty, ◌before◌, label_of, trees}
use Rattle.es_tree.specs.Words.{Text}
use Rattle.es_tree.specs.declared.table.Sort.TheVariants.{Program as s-Program}
use Rattle.es_semantic.specs.declared.place.Role.TheVariants.{Top}
use Rattle.es_resolution.specs.Resolved.{IsResolved, ResolvedAll}
use Rattle.es_steps.specs.Laws.{IsWellBound}
use Rattle.es_steps.specs.Nodes.{joined_trees}
use Rattle.es_steps.specs.Open.{after_imports, is_import}
use Rattle.es_steps.specs.Steps.{Whole}
use Rattle.es_steps.proofs.Lists.{joined-empty}
use Rattle.es_steps.proofs.Reached.{bindings-keep}
use Rattle.es_steps.proofs.Written.{resolved-parts}
use Rattle.es_module_names.specs.Modules.{exported, request, star_request, texts_among}
use Rattle.es_top_imports.specs.Laws.{AreFound, AreNew, AsksMore, ImportsMore, LawImportsMore, list_place, locals, sources_of, with_each}
use Rattle.es_top_imports.specs.TopImports.{Import, TopRule, top_of, with_top}
use Rattle.es_top_imports.proofs.TopForms.{IsProgram, is_program, program-is, program_with}
use Rattle.es_top_imports.proofs.TopReached.{reaches}
use Rattle.es_top_imports.proofs.TopRules.{top-lawful, top-writes}
use Rattle.es_top_imports.proofs.TopStatic.{statement-exports, statement-stars, texts-joined}
use Rattle.es_top_imports.proofs.TopSteps.{RequireUnbound}

-- THE FIRST IMPORTS of a list, and the rest

pub record IsSplit (ts before_it after_it : Trees) : Type 0 where
  pub same : ts ≡ joined_trees before_it after_it
  pub behind : (bs : Trees) → after_imports bs ts ≡ joined_trees before_it (joined_trees bs after_it)

pub data Split (ts : Trees) : Type 0 where
  splits : (before_it after_it : Trees) → IsSplit ts before_it after_it → Split ts

pub split : (ts : Trees) → Split ts
split empty = splits empty empty (record { same = refl; behind = λ bs. sym (joined-empty bs) })
split (t before ts) = at (is_import t) refl (split ts)
  where
    at : (v : Bool) → is_import t ≡ v → Split ts → Split (t before ts)
    at true e (splits before_it after_it h) = splits (t before before_it) after_it (record { same = λ j. t before h.same j; behind = λ bs. (λ j. if e j then t before after_imports bs ts else joined_trees bs (t before ts)) ∙ (λ j. t before h.behind bs j) })
    at false e h = splits empty (t before ts) (record { same = refl; behind = λ bs j. if e j then t before after_imports bs ts else joined_trees bs (t before ts) })

-- WHAT THE STATEMENTS SAY

abbrev news : Bool → List Import → Trees
news in_module is = trees (map (top_of in_module) is)

no-texts : (read : Tree → List Text) (in_module : Bool) → ((i : Import) → read (top_of in_module i) ≡ []) → (is : List Import) → texts_among read (news in_module is) ≡ []
no-texts read in_module h [] = refl
no-texts read in_module h (i ∷ is) = λ j. h i j ++ no-texts read in_module h is j

asked : (in_module : Bool) (is : List Import) → texts_among request (news in_module is) ≡ (if in_module then sources_of is else [])
asked true [] = refl
asked true (i ∷ is) = ap (λ xs. i.source ∷ xs) (asked true is)
asked false [] = refl
asked false (i ∷ is) = asked false is

between : (read : Tree → List Text) (before_it bs after_it : Trees) → texts_among read (joined_trees before_it (joined_trees bs after_it)) ≡ texts_among read before_it ++ (texts_among read bs ++ texts_among read after_it)
between read before_it bs after_it = texts-joined read before_it (joined_trees bs after_it) ∙ ap (λ xs. texts_among read before_it ++ xs) (texts-joined read bs after_it)

pub unread : (read : Tree → List Text) (before_it bs after_it : Trees) → texts_among read bs ≡ [] → texts_among read (joined_trees before_it (joined_trees bs after_it)) ≡ texts_among read (joined_trees before_it after_it)
unread read before_it bs after_it e = between read before_it bs after_it ∙ (λ j. texts_among read before_it ++ (e j ++ texts_among read after_it)) ∙ sym (texts-joined read before_it after_it)

-- NAMES are found in the list that declares them

found : (in_module : Bool) (l : Label) (d : Field) (ts : Trees) (is : List Import) → ResolvedAll Top (list_place (program_with l d ts)) (news in_module is) → AreFound (program_with l d ts) (locals is)
found in_module l d ts [] h = tt
found true l d ts (i ∷ is) h = (sym h.0.2.0.0.2.0.0.0, found true l d ts is h.1)
found false l d ts (i ∷ is) h = (sym h.0.2.0.0.2.0.0.0, found false l d ts is h.1)

-- THE PROGRAM

module _ (in_module : Bool) (is : List Import) (w : Whole) (l : Label) (d : Field) (before_it after_it : Trees) where
  abbrev new_list : Trees
  new_list = joined_trees before_it (joined_trees (news in_module is) after_it)

  abbrev old : Tree
  old = program_with l d (joined_trees before_it after_it)

  abbrev new : Tree
  new = program_with l d new_list

  outside : AsksMore (if in_module then sources_of is else []) old new
  outside = record {
    earlier = texts_among request before_it;
    later = texts_among request after_it;
    asked = texts-joined request before_it after_it;
    asks = between request before_it (news in_module is) after_it ∙ (λ j. texts_among request before_it ++ (asked in_module is j ++ texts_among request after_it)) ∙ sym (append_assoc (texts_among request before_it) (if in_module then sources_of is else []) (texts_among request after_it));
    stars = unread star_request before_it (news in_module is) after_it (no-texts star_request in_module (statement-stars in_module) is);
    exports = unread exported before_it (news in_module is) after_it (no-texts exported in_module (statement-exports in_module) is);
  }

  found-there : IsResolved new → AreFound new (locals is)
  found-there h = found in_module l d new_list is (resolved-parts Top (list_place new) (news in_module is) after_it (resolved-parts Top (list_place new) before_it (joined_trees (news in_module is) after_it) h.2.1.0).1).0

  more : (in_module ≡ true → first_text l.texts ≡ codes "module") → has_form s-Program old ≡ true → breaks old ≡ [] → IsWellBound w old → AreNew w.in_use w.free_symbol (locals is) → RequireUnbound in_module w old → ImportsMore in_module is w old new
  more module_text f e bound fresh require =
      let r = reaches in_module l d module_text is w before_it after_it fresh (record { form = f; kept = e; bound = bound; require = require }) in
      record {
        form = r.ready.form;
        kept = r.ready.kept;
        bound = r.ready.bound;
        bindings = bindings-keep (TopRule in_module) (top-lawful in_module) (top-writes in_module) old new w (with_each (locals is) w) refl bound r.steps;
        found = found-there r.ready.bound.resolved;
        unbound = λ script. (r.ready.require script).0;
        outside = outside;
      }

-- THE LAW

of-program : (in_module : Bool) (is : List Import) (w : Whole) (p : Tree) → IsProgram p → (in_module ≡ true → first_text (label_of p).texts ≡ codes "module") → has_form s-Program p ≡ true → breaks p ≡ [] → IsWellBound w p → AreNew w.in_use w.free_symbol (locals is) → RequireUnbound in_module w p → ImportsMore in_module is w p (with_top (news in_module is) p)
of-program in_module is w p (is_program l d ts) module_text f e bound fresh require = at (split ts)
  where
    at : Split ts → ImportsMore in_module is w (program_with l d ts) (program_with l d (after_imports (news in_module is) ts))
    at (splits before_it after_it h) =
        let given : (P : Tree → Type 0) → P (program_with l d ts) → P (program_with l d (joined_trees before_it after_it)) = λ P. subst (λ (us : Trees). P (program_with l d us)) h.same in
        subst (λ (us : Trees). ImportsMore in_module is w (program_with l d ts) (program_with l d us)) (sym (h.behind (news in_module is)))
        (subst (λ (us : Trees). ImportsMore in_module is w (program_with l d us) (program_with l d (joined_trees before_it (joined_trees (news in_module is) after_it)))) (sym h.same)
        (more in_module is w l d before_it after_it module_text (given (λ p. has_form s-Program p ≡ true) f) (given (λ p. breaks p ≡ []) e) (given (λ p. IsWellBound w p) bound) fresh (given (λ p. RequireUnbound in_module w p) require)))

pub law_imports_more_proof : LawImportsMore
law_imports_more_proof in_module is w p module_text f e bound fresh require = of-program in_module is w p (program-is p f) module_text f e bound fresh require
