-- The law of programs that import their helpers: first the names are imported, then each helper is called by its name.
use Rattle.std.proofs.Common.{◌≡◌, ◌∙◌, ℕ, suc, refl, sym, ap, subst, List, [], ◌∷◌, arith}
use Rattle.std.specs.Prelude.{Bool, true, false, Some, None, codes, map, if◌then◌else◌}
use Rattle.std.proofs.lemmas.Bool.{or_right}
use Rattle.es_tree.specs.Bare.{bare, bare_trees}
use Rattle.es_tree.specs.Fresh.{is_among}
use Rattle.es_tree.specs.HasForm.{has_form}
use Rattle.es_tree.specs.Names.{first_text, names_of}
use Rattle.es_tree.specs.StaticRules.{breaks}
use Rattle.es_tree.specs.Tree.{Tree, node, Trees, ◌before◌, label_of, trees}
use Rattle.es_tree.specs.Words.{Text}
use Rattle.es_tree.specs.declared.helper.Helper.{Helper}
use Rattle.es_tree.specs.declared.table.Sort.TheVariants.{Program as s-Program}
use Rattle.es_resolution.specs.Declarations.{Bound}
use Rattle.es_resolution.specs.Laws.{source}
use Rattle.es_resolution.proofs.Basics.{Each, bytes_eq-equal}
use Rattle.es_steps.specs.CoreBridge.{first_whole, names_among}
use Rattle.es_steps.specs.Laws.{IsWellBound}
use Rattle.es_steps.specs.Nodes.{identifier}
use Rattle.es_steps.specs.Steps.{Whole}
use Rattle.es_steps.proofs.FormParts.{IsText}
use Rattle.es_module_names.specs.Laws.{SameOutside}
use Rattle.es_module_names.proofs.BareNames.{law_outside_bare_proof}
use Rattle.es_reached.proofs.Results.{form-same, outside-then, rules-bare, source-form, source-well-bound}
use Rattle.es_reached.proofs.Sources.{law_bare_source_proof}
use Rattle.es_helper_calls.specs.HelperCalls.{bound_of, calling, helpers_called, helpers_in}
use Rattle.es_helper_calls.specs.Importing.{is_module}
use Rattle.es_helper_calls.specs.Laws.{HaveNames}
use Rattle.es_helper_calls.proofs.CalledTrees.{Calls}
use Rattle.es_helper_calls.proofs.CallingTrees.{calls-named}
use Rattle.es_helper_calls.proofs.CallsKept.{calls-kept}
use Rattle.es_helper_names.specs.CallNames.{IsTopName}
use Rattle.es_helper_names.proofs.CallNames.{calls-top, law_call_names_proof}
use Rattle.es_top_imports.specs.Laws.{AreFound, AreNew, AsksMore, ImportsMore, list_place, locals, sources_of, with_each}
use Rattle.es_top_imports.specs.TopImports.{Import, top_of, with_top}
use Rattle.es_top_imports.proofs.ImportsMore.{law_imports_more_proof}
use Rattle.es_top_imports.proofs.TopForms.{program-is}
use Rattle.es_helper_imports.specs.Imported.{ImportsTo, helper_source, imports_of, marked_from, unmarked}
use Rattle.es_helper_imports.specs.Laws.{IsImported, LawImported}
use Rattle.es_helper_imports.proofs.BareCalls.{bare-calling, bare-helpers}
use Rattle.es_helper_imports.proofs.CalledHelpers.{names-hold, unmarked-name}
use Rattle.es_helper_imports.proofs.FreshNames.{AreFree, are-free, are-new, are-texts, are-top-names, locals-are, made-names, sources-are}
use Rattle.es_helper_imports.proofs.BareTops.{bare-top}

-- THE SOURCE of a program is a module where the program is one

texts-bare : (t : Tree) → (label_of (bare t)).texts ≡ (label_of t).texts
texts-bare (node k l fs) = refl

module-text : (p s : Tree) → bare s ≡ bare p → is_module p ≡ true → first_text (label_of s).texts ≡ codes "module"
module-text p s same e = ap (λ xs. first_text xs) (sym (texts-bare s) ∙ ap (λ t. (label_of t).texts) same ∙ texts-bare p) ∙ bytes_eq-equal (first_text (label_of p).texts) (codes "module") e

-- WHAT IS IMPORTED without ids and marks

bare-import : (from x : Text) (n : ℕ) (in_module : Bool) → bare (top_of in_module (record { source = from; local = record { name = x; symbol = Some n } })) ≡ bare (top_of in_module (record { source = from; local = record { name = x; symbol = None } }))
bare-import from x n true = refl
bare-import from x n false = refl

module _ (m : Text) (in_module : Bool) where
  abbrev news_of : List Import → Trees
  news_of is = trees (map (top_of in_module) is)

  bare-news : (hs : List Helper) (names : List Text) (n : ℕ) → bare_trees (news_of (imports_of m hs (marked_from n names))) ≡ bare_trees (news_of (imports_of m hs (unmarked names)))
  bare-news [] names n = refl
  bare-news (g ∷ gs) [] n = refl
  bare-news (g ∷ gs) (x ∷ xs) n = λ i. bare-import (helper_source m g) x n in_module i before bare-news gs xs (suc n) i

-- TO OTHER MODULES

asks-between : (sources : List Text) {p s t q : Tree} → SameOutside p s → AsksMore sources s t → SameOutside t q → AsksMore sources p q
asks-between sources a b c = record {
  earlier = b.earlier;
  later = b.later;
  asked = sym a.requests ∙ b.asked;
  asks = c.requests ∙ b.asks;
  stars = c.stars ∙ b.stars ∙ a.stars;
  exports = c.exports ∙ b.exports ∙ a.exports;
}

-- THE PROGRAM

module _ (m : Text) (p q : Tree) (names : List Text) (form : has_form s-Program p ≡ true) (right : breaks p ≡ []) (require : is_module p ≡ false → (list_place (source p)).scope (codes "require") ≡ None) (h : ImportsTo (first_whole p).in_use m p q names) where
  abbrev seen_source : Tree
  seen_source = source p

  abbrev first : Whole
  first = first_whole p

  abbrev called : List Helper
  called = helpers_called p

  abbrev imported : List Import
  imported = imports_of m called (marked_from first.free_symbol names)

  abbrev news : Trees
  news = trees (map (top_of (is_module p)) imported)

  abbrev top : Tree
  top = with_top news seen_source

  abbrev last : Whole
  last = with_each (locals imported) first

  abbrev name_of : Helper → Bound
  name_of g = bound_of called (marked_from first.free_symbol names) g

  abbrev calling_so : Tree
  calling_so = calling (λ g. identifier (name_of g)) seen_source

  abbrev after : Tree
  after = with_top news calling_so

  same : bare seen_source ≡ bare p
  same = law_bare_source_proof p

  form-there : has_form s-Program seen_source ≡ true
  form-there = source-form p form

  bound-there : IsWellBound first seen_source
  bound-there = source-well-bound p form right

  local-names : locals imported ≡ marked_from first.free_symbol names
  local-names = locals-are m first.in_use called names first.free_symbol h.fresh

  free : AreFree first.in_use names
  free = are-free first first.in_use called names h.fresh

  new : AreNew first.in_use first.free_symbol (locals imported)
  new = subst (λ (bs : List Bound). AreNew first.in_use first.free_symbol bs) (sym local-names) (are-new first.in_use names first.free_symbol free)

  more : ImportsMore (is_module p) imported first seen_source top
  more = law_imports_more_proof (is_module p) imported first seen_source (module-text p seen_source same) form-there (rules-bare p seen_source (sym same) right) bound-there new (λ e. (require e, or_right (is_among (names_of p) (codes "require")) true refl))

  same-helpers : helpers_in p ≡ helpers_in seen_source
  same-helpers = sym (bare-helpers p) ∙ ap (λ t. helpers_in t) (sym same) ∙ bare-helpers seen_source

  top-names : Each (IsTopName first last top) (marked_from first.free_symbol names)
  top-names = are-top-names first last top names first.free_symbol first (λ y e. e) (omega arith) (ap (λ bs. with_each bs first) (sym local-names)) free (subst (λ (bs : List Bound). AreFound top bs) local-names more.found)

  have : (P : Bound → Type 0) → Each P (marked_from first.free_symbol names) → HaveNames P name_of (helpers_in seen_source)
  have P each = subst (λ (gs : List Helper). HaveNames P name_of gs) same-helpers (names-hold P first.in_use (helpers_in p) names first.free_symbol h.fresh each)

  written : bare after ≡ bare q
  written =
      let c : Helper → Tree = λ g. identifier (name_of g) in
      let d : Helper → Tree = λ g. identifier (bound_of called (unmarked names) g) in
      let other : Trees = trees (map (top_of (is_module p)) (imports_of m called (unmarked names))) in
      let callees : ◌≡◌ {A = Helper → Tree} (λ g. bare (c g)) (λ g. bare (d g)) = λ i g. unmarked-name called names first.free_symbol g i in
      bare-top news calling_so ∙ ap (λ t. with_top (bare_trees news) t) (bare-calling c seen_source) ∙
      (λ i. with_top (bare-news m (is_module p) called names first.free_symbol i) (calling (callees i) (same i))) ∙
      ap (λ t. with_top (bare_trees other) t) (sym (bare-calling d p)) ∙ sym (bare-top other (calling d p)) ∙ sym h.written

  made : names_among last.made ≡ names
  made = ap (λ bs. names_among (with_each bs first).made) local-names ∙ made-names names first.free_symbol first

  imports : IsImported m p q names
  imports =
      let texts = have IsText (are-texts first.in_use names first.free_symbol free) in
      let called_so : Calls (λ f b. IsText b) top after = calls-top (λ f b. IsText b) news (program-is seen_source form-there) (calls-named IsText name_of seen_source texts) in
      let kept = calls-kept (λ f b. IsText b) (λ f b e. e) top after last called_so more.form more.kept more.bound in
      let known = law_call_names_proof seen_source first last news name_of form-there bound-there more.bound more.bindings (have (IsTopName first last top) top-names) in
      record {
        resolved = after;
        written = written;
        whole = last;
        made = made;
        bindings = known.bindings;
        require = λ script. (λ i. (known.place i).scope (codes "require")) ∙ more.unbound script;
        form = form-same after q written kept.form;
        kept = rules-bare after q written kept.kept;
        outside = subst (λ (ss : List Text). AsksMore (if is_module p then ss else []) p q) (sources-are m first.in_use called names first.free_symbol h.fresh) (asks-between (if is_module p then sources_of imported else []) (law_outside_bare_proof p seen_source (sym same)) more.outside (outside-then kept.outside (law_outside_bare_proof after q written)));
      }

pub law_imported_proof : LawImported
law_imported_proof m p q names form right require h = imports m p q names form right require h
