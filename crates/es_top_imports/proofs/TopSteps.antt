-- A statement more in the list of a program: a step of the rule.
use Rattle.std.proofs.Common.{◌≡◌, refl, sym, ap, ◌∙◌, List, [], ◌∷◌, ◌++◌}
use Rattle.std.specs.Prelude.{Bool, true, false, None, codes}
use Rattle.es_tree.specs.Tree.{Tree, Label, Field, Fields, done, ◌then◌, statements, Trees, ◌before◌}
use Rattle.es_tree.specs.Words.{Text}
use Rattle.es_tree.specs.declared.ast_type.AstType.TheVariants.{Program}
use Rattle.es_semantic.specs.RolesOf.{reads, role_at}
use Rattle.es_resolution.specs.Declarations.{Bound, declared_among, declared_by, sought}
use Rattle.es_resolution.specs.Named.{Named}
use Rattle.es_resolution.specs.Resolved.{nowhere, or_around, place_in}
use Rattle.es_resolution.proofs.Basics.{either_of, sought-append}
use Rattle.es_steps.specs.Laws.{nothing_beside}
use Rattle.es_steps.specs.Nodes.{joined_trees}
use Rattle.es_steps.specs.Open.{is_body, no_additions, nothing_pending, opened, opened_fields}
use Rattle.es_steps.specs.Rules.{next_name, with_made}
use Rattle.es_steps.specs.Steps.{Ledger, Site, Spot, Step, Whole, at_list, site_in, the_program}
use Rattle.es_steps.specs.Steps.FieldStep.{acts_on_list}
use Rattle.es_steps.specs.Steps.FieldsStep.{in_first, in_later}
use Rattle.es_steps.specs.Steps.Step.{inside}
use Rattle.es_semantic.specs.declared.place.Role.TheVariants.{Top}
use Rattle.es_steps.proofs.RuleLaws.{used-after}
use Rattle.es_steps.proofs.Opened.{finished-fields}
use Rattle.es_top_imports.specs.Laws.{list_place}
use Rattle.es_top_imports.specs.TopImports.{TopRule, top_of}
use Rattle.es_top_imports.specs.TopImports.TopRule.{imports}
use Rattle.es_top_imports.proofs.TopForms.{program_with}
use Rattle.es_top_imports.proofs.TopKept.{KnowsRequire, behind}

-- where `require` is found by nothing at the top of a script
abbrev pub RequireUnbound : Bool → Whole → Tree → Type 0
RequireUnbound in_module w p = in_module ≡ false → ((list_place p).scope (codes "require") ≡ None) × (w.in_use (codes "require") ≡ true)

-- A RULE acts on the list of a program: its site, and the step

abbrev pub list_site : Label → Field → Trees → Site
list_site l d ts = site_in the_program Program l (opened_fields (is_body Program) (d then (statements ts then done))) 1

pub list-step : (R : Site → Ledger → Spot → Ledger → Spot → Type 0) (w w' : Whole) (l : Label) (d : Field) (ts us : Trees) → R (list_site l d ts) (nothing_beside w) (at_list nothing_pending None no_additions ts) (nothing_beside w') (at_list nothing_pending None no_additions us) → Step R the_program (nothing_beside w) (opened (program_with l d ts)) (nothing_beside w') (opened (program_with l d us))
list-step R w w' l d ts us h = inside (in_later (in_first (acts_on_list ts us h)))

module _ (in_module : Bool) (w : Whole) (l : Label) (d : Field) (before_it after_it : Trees) (source x : Text) (free : w.in_use x ≡ false) where
  abbrev it : Bound
  it = next_name w x

  abbrev the_statement : Tree
  the_statement = top_of in_module (record { source = source; local = it })

  abbrev old_list : Trees
  old_list = joined_trees before_it after_it

  abbrev new_list : Trees
  new_list = joined_trees before_it (the_statement before after_it)

  abbrev old : Tree
  old = program_with l d old_list

  abbrev new : Tree
  new = program_with l d new_list

  -- the site of the list
  abbrev old_fields : Fields
  old_fields = d then (statements old_list then done)

  abbrev n : Site
  n = list_site l d old_list

  place-same : n.names ≡ list_place old
  place-same = ap (λ (fs : Fields). place_in nowhere Program l (role_at reads Program l fs) fs 1) (finished-fields (is_body Program) old_fields)

  knows : RequireUnbound in_module w old → KnowsRequire in_module n w
  knows h e = let k = h e in ((λ i. (place-same i).scope (codes "require")) ∙ k.0, k.1)

  pub the-step : RequireUnbound in_module w old → Step (TopRule in_module) the_program (nothing_beside w) (opened old) (nothing_beside (with_made (it ∷ []) w)) (opened new)
  the-step h = list-step (TopRule in_module) w (with_made (it ∷ []) w) l d old_list new_list (imports before_it after_it source x refl free (knows h))

  -- a name in use is found as before
  module _ (y : Text) (u : w.in_use y ≡ true) where
    same-found : (ds xs ys : List Bound) → sought ys y ≡ sought xs y → sought (ds ++ (ys ++ [])) y ≡ sought (ds ++ (xs ++ [])) y
    same-found ds xs ys e =
        sought-append ds (ys ++ []) y
        ∙ ap (λ z. either_of (sought ds y) z) (sought-append ys [] y ∙ ap (λ z. either_of z None) e ∙ sym (sought-append xs [] y))
        ∙ sym (sought-append ds (xs ++ []) y)

    scope-same : sought (declared_among false Top new_list) y ≡ sought (declared_among false Top old_list) y → sought (declared_among true Top new_list) y ≡ sought (declared_among true Top old_list) y → (list_place new).scope y ≡ (list_place old).scope y
    scope-same e f j = or_around (same-found (declared_by false reads d) (declared_among false Top old_list) (declared_among false Top new_list) e j) (or_around (same-found (declared_by true reads d) (declared_among true Top old_list) (declared_among true Top new_list) f j) None)

pub require-stays : (in_module : Bool) (w : Whole) (l : Label) (d : Field) (before_it after_it : Trees) (source x : Text) (free : w.in_use x ≡ false) → Named w.in_use w.free_symbol reads (old in_module w l d before_it after_it source x free) → RequireUnbound in_module w (old in_module w l d before_it after_it source x free) → RequireUnbound in_module (with_made (next_name w x ∷ []) w) (new in_module w l d before_it after_it source x free)
require-stays true w l d before_it after_it source x free used h e = absurd (cc e)
require-stays false w l d before_it after_it source x free used h e =
    let u = (h refl).1 in
    let k = behind (n false w l d before_it after_it source x free) w source x free false (knows false w l d before_it after_it source x free h) before_it after_it used.1.1.0 in
    (scope-same false w l d before_it after_it source x free (codes "require") u (ap (λ ds. sought ds (codes "require")) k.lexical) (k.hoisted.used (codes "require") u) ∙ (h refl).0, used-after (next_name w x ∷ []) w.in_use (codes "require") u)
