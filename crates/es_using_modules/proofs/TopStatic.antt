-- A module whose `using` at the top is lowered: it has form, breaks no static rule, and to other modules it is what it was.
use Rattle.std.proofs.Common.{◌≡◌, refl, sym, ap, ◌∙◌, List, [], ◌∷◌}
use Rattle.std.specs.Prelude.{Bool, true, false, not, ◌&&◌, ◌||◌, Option, None, bytes_eq, codes}
use Rattle.es_tree.specs.Ancestors.{Ancestor, ancestor, visits}
use Rattle.es_tree.specs.Fresh.{IsFreshName, text_base}
use Rattle.es_tree.specs.HasForm.{has_form, trees_form}
use Rattle.es_tree.specs.Names.{first_text}
use Rattle.es_tree.specs.StaticRules.{breaks, has_pattern}
use Rattle.es_tree.specs.Tree.{Tree, node, Label, Fields, done, ◌then◌, many, statements, Trees, empty, ◌before◌}
use Rattle.es_tree.specs.Words.{Text}
use Rattle.es_tree.specs.declared.ast_type.AstType.TheVariants.{Program, VariableDeclaration}
use Rattle.es_tree.specs.declared.table.Sort.TheVariants.{Program as s-Program, Statement as s-Statement}
use Rattle.es_tree.proofs.NodeForm.{node_form}
use Rattle.es_semantic.specs.RolesOf.{reads}
use Rattle.es_resolution.specs.Declarations.{Bound}
use Rattle.es_resolution.specs.Named.{Named}
use Rattle.es_resolution.proofs.Basics.{bytes_eq-equal}
use Rattle.es_steps.specs.Open.{Additions, Pending, no_additions, nothing_pending}
use Rattle.es_steps.specs.Rules.{next_name}
use Rattle.es_steps.specs.Steps.{Site, Whole, ledger}
use Rattle.es_steps.specs.Steps.Spot.{at_list}
use Rattle.es_steps.specs.UsingBlocks.{error_of, has_using, is_using_node}
use Rattle.es_steps.proofs.FormLists.{first-formed}
use Rattle.es_steps.proofs.FormParts.{IsText, and-left}
use Rattle.es_steps.proofs.FormRows.{next-text}
use Rattle.es_valid_steps.specs.PlaceRules.{Keeps, KeepsAll}
use Rattle.es_valid_steps.proofs.Visits.{law_among_proof, law_places_proof}
use Rattle.es_valid_names.proofs.BareNames.{law_declared_among_proof, law_together_proof}
use Rattle.es_valid_names.proofs.ExportClashes.{same-exports}
use Rattle.es_valid_names.proofs.ExportPlaces.{exported_in}
use Rattle.es_valid_names.proofs.ExportStatements.{program-exports}
use Rattle.es_valid_names.proofs.ExportTexts.{lists}
use Rattle.es_valid_names.proofs.Grown.{left-none}
use Rattle.es_valid_names.proofs.NameSteps.{around, clear-breaks, clear-exports, start-clear}
use Rattle.es_valid_names.proofs.StartUsed.{start-used}
use Rattle.es_reached.proofs.Results.{IsRight}
use Rattle.es_top_imports.proofs.TopForms.{program_with}
use Rattle.es_using_rows.specs.UsingPlaces.{are_used}
use Rattle.es_using_modules.specs.ModuleTops.{Makes, by_bounds, inside, outside, topped, uses_at_top}
use Rattle.es_using_modules.specs.TopRule.{TopRule, with_default}
use Rattle.es_using_modules.specs.TopRule.TopRule.{by_default, without_default}
use Rattle.es_using_modules.proofs.TopForms.{program-formed, program-list}
use Rattle.es_using_modules.proofs.TopMoves.{lowered, moves-are}
use Rattle.es_using_modules.proofs.TopNames.{program-clear}
use Rattle.es_using_modules.proofs.TopNamesLists.{anything}
use Rattle.es_using_modules.proofs.TopOutside.{outside-same}
use Rattle.es_using_modules.proofs.TopPlaces.{program-keeps}

-- A SCRIPT declares by no `using` at its top

or-cases : (A : Type 0) (a b : Bool) → (a || b) ≡ true → (a ≡ true → A) → (b ≡ true → A) → A
or-cases A true b e f g = f refl
or-cases A false b e f g = g e

module _ (l : Label) (all : Fields) where
  abbrev up : List Ancestor
  up = ancestor Program l all 1 0 ∷ []

  using-in-module : (t : Tree) → has_form s-Statement t ≡ true → is_using_node t ≡ true → Keeps up t → bytes_eq (first_text l.texts) (codes "module") ≡ true
  using-in-module (node VariableDeclaration k (many ds then fs)) f e h = at (bytes_eq (first_text k.texts) (codes "using")) (has_pattern ds) (bytes_eq (first_text l.texts) (codes "module")) e h.0.using_word
    where
      at : (u p m : Bool) → u ≡ true → (u && (p || not (m || false) || false || false)) ≡ false → m ≡ true
      at true p true e h = refl
      at true true false e h = absurd (let no : true ≡ false = h in cc no)
      at true false false e h = absurd (let no : true ≡ false = h in cc no)
      at false p m e h = absurd (let no : false ≡ true = e in cc no)
  using-in-module (node VariableDeclaration k fs) f e h = absurd (let no : false ≡ true = (node_form s-Statement VariableDeclaration k fs f).children in cc no)
  using-in-module (node k m fs) f e h = absurd (let no : false ≡ true = e in cc no)

  some-in-module : (ts : Trees) → trees_form s-Statement s-Statement ts ≡ true → has_using ts ≡ true → KeepsAll up ts → bytes_eq (first_text l.texts) (codes "module") ≡ true
  some-in-module empty f e h = absurd (let no : false ≡ true = e in cc no)
  some-in-module (t before ts) f e h =
      let parts = first-formed s-Statement t ts f in
      or-cases (bytes_eq (first_text l.texts) (codes "module") ≡ true) (is_using_node t) (has_using ts) e (λ d. using-in-module t parts.0 d h.0) (λ d. some-in-module ts parts.1 d h.1)

-- A PROGRAM that has form, breaks no static rule, and declares so

module _ (w : Whole) (default context error : Bound) (default_named : IsText default) (context_named : IsText context) (error_named : IsText error) (default_free : w.in_use default.name ≡ false) (context_free : w.in_use context.name ≡ false) where
  abbrev m : Makes
  m = by_bounds default context error

  list-right : (l : Label) (ds ts : Trees) → has_form s-Program (program_with l (many ds) ts) ≡ true → breaks (program_with l (many ds) ts) ≡ [] → has_using ts ≡ true → Named w.in_use w.free_symbol reads (program_with l (many ds) ts) → IsRight (program_with l (many ds) ts) (program_with l (many ds) (lowered context error (outside m ts) (inside m ts)))
  list-right l ds ts f e uses used =
      let old : Tree = program_with l (many ds) ts in
      let new : Tree = program_with l (many ds) (lowered context error (outside m ts) (inside m ts)) in
      let declared = law_declared_among_proof old e in
      let places = (law_places_proof old).to_places (law_among_proof old e) in
      let clear = start-clear w.in_use old f declared (start-used w.in_use w.free_symbol old f used) in
      let list = program-list l (many ds) ts f in
      let in_module = bytes_eq-equal (first_text l.texts) (codes "module") (some-in-module l (many ds then statements ts then done) ts list uses places.1.1.0) in
      let moves = moves-are default context error (around w.in_use old) ts list clear.2.1.0 in
      let g = program-formed default context error default_named context_named error_named l (many ds) ts (outside m ts) (inside m ts) moves f in
      let keeps = program-keeps default context error l (many ds) ts (outside m ts) (inside m ts) moves list places in
      let seen = outside-same default context error l (many ds) ts (outside m ts) (inside m ts) moves f in
      let kept = program-clear default context error default_named w.in_use default_free context_free l in_module (many ds) ts (outside m ts) (inside m ts) moves f places g clear in
      let same : exported_in (visits [] 0 new) ≡ exported_in (visits [] 0 old) = program-exports new g keeps ∙ ap lists seen.exports ∙ sym (program-exports old f places) in
      record {
        form = g;
        kept = law_together_proof new ((law_places_proof new).from_places keeps) (same-exports old new declared same (clear-breaks anything new g kept) (clear-exports anything new g kept));
        outside = seen;
      }

  -- What it becomes has form, breaks no static rule, and asks for the same modules and exports the same names in the same order.
  pub topped-right : (p : Tree) → has_form s-Program p ≡ true → breaks p ≡ [] → uses_at_top p ≡ true → Named w.in_use w.free_symbol reads p → IsRight p (topped m p)
  topped-right (node Program l (many ds then (statements ts then done))) f e uses used = list-right l ds ts f e (and-left (has_using ts) (are_used ts) uses) used
  topped-right t f e uses used = absurd (let no : false ≡ true = uses in cc no)

-- A STEP OF THE RULE leads from such a program to one

abbrev pub Right : Whole → Label → Trees → Trees → Trees → Type 0
Right w l ds ts us = has_form s-Program (program_with l (many ds) ts) ≡ true → breaks (program_with l (many ds) ts) ≡ [] → Named w.in_use w.free_symbol reads (program_with l (many ds) ts) → IsRight (program_with l (many ds) ts) (program_with l (many ds) us)

fresh-text : (w : Whole) (base x : Text) → IsFreshName w.in_use (text_base base) x → IsText (next_name w x)
fresh-text w base x h = next-text w (text_base base) (next_name w x) (record { fresh = h; symbol = refl })

not-before : (w : Whole) (x c : Text) → (with_default x w).in_use c ≡ false → w.in_use c ≡ false
not-before w x c e = left-none (w.in_use c) (bytes_eq x c) e

pub rule-right : {n : Site} {w w' : Whole} {p p' : Pending} {y y' : Option Bound} {a a' : Additions} (l : Label) (ds ts us : Trees) → TopRule n (ledger w p y a) (at_list nothing_pending None no_additions ts) (ledger w' p' y' a') (at_list nothing_pending None no_additions us) → Right w l ds ts us
rule-right {w = w} l ds ts us (without_default h _ c uses none takes) f e used =
    let text = fresh-text w (codes "usingCtx") c takes.fresh in
    list-right w (next_name w c) (next_name w c) (error_of w) text text refl takes.fresh.free takes.fresh.free l ds ts f e (and-left (has_using ts) (are_used ts) uses) used
rule-right {w = w} l ds ts us (by_default h _ x c uses some fresh takes) f e used =
    list-right w (next_name w x) (next_name (with_default x w) c) (error_of (with_default x w)) (fresh-text w (codes "default") x fresh) (fresh-text (with_default x w) (codes "usingCtx") c takes.fresh) refl fresh.free (not-before w x c takes.fresh.free) l ds ts f e (and-left (has_using ts) (are_used ts) uses) used
