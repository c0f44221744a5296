-- The law of programs in which names stand for lists of excluded keys: first the constants are declared, then the lists give way to their names.
use Rattle.std.proofs.Common.{◌≡◌, ◌∙◌, ℕ, suc, refl, sym, ap, subst, List, [], ◌∷◌, arith}
use Rattle.std.specs.Prelude.{Bool, true, false, Some, None, codes, is_some, map, if◌then◌else◌}
use Rattle.std.proofs.lemmas.Bool.{or_right}
use Rattle.es_tree.specs.Bare.{bare, bare_label, bare_trees}
use Rattle.es_tree.specs.Fresh.{also, is_among}
use Rattle.es_tree.specs.HasForm.{has_form}
use Rattle.es_tree.specs.Names.{names_of as all_names}
use Rattle.es_tree.specs.StaticRules.{breaks}
use Rattle.es_tree.specs.Tree.{Tree, node, done, ◌then◌, one, many, statements, Trees, empty, ◌before◌, trees}
use Rattle.es_tree.specs.Words.{Text}
use Rattle.es_tree.specs.declared.ast_type.AstType.TheVariants.{VariableDeclaration, VariableDeclarator}
use Rattle.es_tree.specs.declared.table.Sort.TheVariants.{Program as s-Program}
use Rattle.es_resolution.specs.Declarations.{Bound}
use Rattle.es_resolution.specs.Laws.{source}
use Rattle.es_resolution.proofs.Basics.{Each}
use Rattle.es_resolution.proofs.Sources.{law_resolved_proof}
use Rattle.es_module_names.proofs.BareNames.{law_outside_bare_proof}
use Rattle.es_steps.specs.Bindings.{Bindings}
use Rattle.es_steps.specs.CoreBridge.{first_whole, names_among}
use Rattle.es_steps.specs.Laws.{IsWellBound}
use Rattle.es_steps.specs.Nodes.{identifier, made}
use Rattle.es_steps.specs.Open.{after_imports, is_import}
use Rattle.es_steps.specs.Steps.{Whole}
use Rattle.es_reached.proofs.Results.{form-same, outside-then, program-kind, rules-bare, source-form, source-well-bound}
use Rattle.es_reached.proofs.Sources.{law_bare_source_proof}
use Rattle.es_helper_calls.specs.Laws.{IsKept, IsNamed}
use Rattle.es_helper_calls.proofs.CalledTrees.{Calls}
use Rattle.es_helper_calls.proofs.CallsKept.{calls-kept}
use Rattle.es_helper_calls.proofs.CallSteps.{HasForm, all-formed}
use Rattle.es_helper_calls.proofs.TextLists.{list-is}
use Rattle.es_helper_names.specs.CallNames.{IsTopName, KeepsNames}
use Rattle.es_helper_names.proofs.CallNames.{calls-top, names-kept}
use Rattle.es_helper_names.proofs.PlainTrees.{Way, list-plain}
use Rattle.es_helper_imports.specs.Imported.{marked_from, unmarked}
use Rattle.es_helper_imports.proofs.BareTops.{bare-top}
use Rattle.es_helper_imports.proofs.FreshNames.{AreFree, are-new, are-texts, are-top-names, fresh-text, made-names}
use Rattle.es_top_imports.specs.Laws.{AreFound, AreNew, list_place, with_each}
use Rattle.es_top_imports.specs.TopImports.{with_top}
use Rattle.es_top_imports.proofs.TopForms.{IsProgram, program-is}
use Rattle.es_top_constants.specs.Laws.{AreLists, DeclaresMore, names_of}
use Rattle.es_top_constants.specs.TopConstants.{Constant, constants_of, declarator_of, with_constants}
use Rattle.es_top_constants.proofs.Constants.{the_constants}
use Rattle.es_top_constants.proofs.ConstantsMore.{law_constants_more_proof}
use Rattle.es_helper_imports.proofs.BareLists.{lists-alike, none-found}
use Rattle.es_excluded_keys.specs.ExcludedKeys.{AreFresh, SharesTo}
use Rattle.es_excluded_keys.specs.Laws.{IsShared, LawKeysShared}
use Rattle.es_excluded_keys.proofs.MarkedTrees.{MarkedTree, SameNames, marked-tree}
use Rattle.es_excluded_keys.proofs.SharedCalls.{shared-calls}
use Rattle.es_excluded_keys.proofs.SharedLists.{IsList, Pairs, are-lists, list-formed, list-twice, lists-known, locals-are}
use Rattle.es_excluded_keys.proofs.TopFinds.{finds-same}

-- NAMES

are-free : (w : Whole) (u : Text → Bool) (names : List Text) → AreFresh u names → AreFree u names
are-free w u [] h = tt
are-free w u (x ∷ xs) h = (h.0.free, fresh-text w u (codes "excluded") x h.0, are-free w (also x u) xs h.1)

same-names : (names : List Text) (n : ℕ) → SameNames (marked_from n names) (unmarked names)
same-names [] n = tt
same-names (x ∷ xs) n = (refl, same-names xs (suc n))

-- CONSTANTS AT THE TOP: none stands for none

after-nothing : (ts : Trees) → after_imports empty ts ≡ ts
after-nothing empty = refl
after-nothing (t before ts) = at (is_import t) (after-nothing ts)
  where
    at : (v : Bool) → after_imports empty ts ≡ ts → (if v then t before after_imports empty ts else t before ts) ≡ t before ts
    at true e = λ i. t before e i
    at false e = refl

with-nothing : (t : Tree) → with_top empty t ≡ t
with-nothing (node k l (f then (statements ts then fs))) = λ i. node k l (f then (statements (after-nothing ts i) then fs))
with-nothing _ = refl

calls-constants : (P : Tree → Bound → Type 0) (cs : List Constant) {p q : Tree} → IsProgram p → Calls P p q → Calls P (with_constants cs p) (with_constants cs q)
calls-constants P [] program h = h
calls-constants P (c ∷ cs) program h = calls-top P (the_constants (c ∷ cs) before empty) program h

names-constants : (cs : List Constant) (w w' : Whole) (p q : Tree) → IsProgram p → Calls (Way (IsTopName w w' (with_constants cs p))) p q → IsWellBound w p → IsWellBound w' (with_constants cs p) → Bindings p (with_constants cs p) w w' → KeepsNames p (with_constants cs p) (with_constants cs q) w w'
names-constants (c ∷ cs) w w' p q program h bound there known = names-kept w w' (the_constants (c ∷ cs) before empty) program h bound there known
names-constants [] w w' p q program h bound there known =
    let Kept : Tree → Tree → Type 0 = λ t u. Calls (Way (IsTopName w w' t)) p q → IsWellBound w p → IsWellBound w' t → Bindings p t w w' → KeepsNames p t u w w' in
    subst (λ (t : Tree). Kept t q) (with-nothing p) (subst (λ (u : Tree). Kept (with_top empty p) u) (with-nothing q) (names-kept w w' empty program)) h bound there known

-- WITHOUT IDS AND MARKS

bare-declarators : (names : List Text) (n : ℕ) (ls : List Tree) → Pairs IsList (unmarked names) ls → bare_trees (trees (map declarator_of (constants_of (marked_from n names) (map bare ls)))) ≡ bare_trees (trees (map declarator_of (constants_of (unmarked names) ls)))
bare-declarators [] n ls h = refl
bare-declarators (x ∷ xs) n (l ∷ ls) h =
    let same = list-twice l (list-is l h.0.texts) in
    λ i. node VariableDeclarator (bare_label (made [] [])) (one (bare (identifier (record { name = x; symbol = None }))) then (one (same i) then done)) before bare-declarators xs (suc n) ls h.1 i
bare-declarators (x ∷ xs) n [] h = absurd h

bare-constants : (names : List Text) (n : ℕ) (ls : List Tree) (t u : Tree) → Pairs IsList (unmarked names) ls → bare t ≡ bare u → bare (with_constants (constants_of (marked_from n names) (map bare ls)) t) ≡ bare (with_constants (constants_of (unmarked names) ls) u)
bare-constants [] n ls t u h e = e
bare-constants (x ∷ xs) n [] t u h e = absurd h
bare-constants (x ∷ xs) n (l ∷ ls) t u h e =
    let was = constants_of (marked_from n (x ∷ xs)) (map bare (l ∷ ls)) in
    let now = constants_of (unmarked (x ∷ xs)) (l ∷ ls) in
    let news : bare_trees (the_constants was before empty) ≡ bare_trees (the_constants now before empty) = λ i. node VariableDeclaration (bare_label (made (Some (codes "const") ∷ []) [])) (many (bare-declarators (x ∷ xs) n (l ∷ ls) h i) then done) before empty in
    bare-top (the_constants was before empty) t ∙ ((λ i. with_top (news i) (e i)) ∙ sym (bare-top (the_constants now before empty) u))

-- THE PROGRAM

module _ (p q : Tree) (names : List Text) (form : has_form s-Program p ≡ true) (right : breaks p ≡ []) (h : SharesTo (first_whole p).in_use p q names) where
  abbrev seen_source : Tree
  seen_source = source p

  abbrev first : Whole
  first = first_whole p

  abbrev marked : List Bound
  marked = marked_from first.free_symbol names

  abbrev constants : List Constant
  constants = constants_of marked (map bare h.lists)

  abbrev last : Whole
  last = with_each (names_of constants) first

  abbrev top : Tree
  top = with_constants constants seen_source

  same : bare seen_source ≡ bare p
  same = law_bare_source_proof p

  form-there : has_form s-Program seen_source ≡ true
  form-there = source-form p form

  bound-there : IsWellBound first seen_source
  bound-there = source-well-bound p form right

  program : IsProgram seen_source
  program = program-is seen_source form-there

  there : MarkedTree false seen_source marked h.shared
  there = marked-tree h.shares seen_source marked same (same-names names first.free_symbol)

  abbrev after : Tree
  after = with_constants constants there.tree

  pairs : Pairs IsList (unmarked names) h.lists
  pairs = lists-known HasForm IsList list-formed h.shares (all-formed s-Program p form)

  local-names : names_of constants ≡ marked
  local-names = locals-are names first.free_symbol h.lists pairs

  free : AreFree first.in_use names
  free = are-free first first.in_use names h.fresh

  new : AreNew first.in_use first.free_symbol (names_of constants)
  new = subst (λ (bs : List Bound). AreNew first.in_use first.free_symbol bs) (sym local-names) (are-new first.in_use names first.free_symbol free)

  lists : AreLists first constants
  lists = are-lists first names first.free_symbol h.lists pairs

  more : DeclaresMore constants first seen_source top
  more = law_constants_more_proof constants first seen_source form-there (rules-bare p seen_source (sym same) right) bound-there new lists

  top-names : Each (IsTopName first last top) marked
  top-names = are-top-names first last top names first.free_symbol first (λ y e. e) (omega arith) (ap (λ bs. with_each bs first) (sym local-names)) free (subst (λ (bs : List Bound). AreFound top bs) local-names more.found)

  kept : IsKept top after
  kept =
      let P : Tree → Bound → Type 0 = λ f b. IsNamed b in
      let called : Calls P seen_source there.tree = shared-calls IsNamed P (λ ks b e d. d) there.shared (are-texts first.in_use names first.free_symbol free) in
      calls-kept P (λ f b e. e) top after last (calls-constants P constants program called) more.form more.kept more.bound

  known : KeepsNames seen_source top after first last
  known =
      let T : Bound → Type 0 = IsTopName first last top in
      names-constants constants first last seen_source there.tree program (shared-calls T (Way T) (λ ks b e d. (list-plain ks e, d)) there.shared top-names) bound-there more.bound more.bindings

  written : bare after ≡ bare q
  written = bare-constants names first.free_symbol h.lists there.tree h.shared pairs there.same ∙ sym h.written

  form-then : has_form s-Program q ≡ true
  form-then = form-same after q written kept.form

  require-same : is_some ((list_place (source q)).scope (codes "require")) ≡ is_some ((list_place seen_source).scope (codes "require"))
  require-same =
      lists-alike after (source q) (program-kind after kept.form) (program-kind (source q) (source-form q form-then)) known.bindings.resolved (law_resolved_proof q form-then) (written ∙ sym (law_bare_source_proof q)) (codes "require")
      ∙ ((λ i. is_some ((known.place i).scope (codes "require"))) ∙ finds-same constants first seen_source program new lists bound-there.resolved more.bound.resolved (codes "require") (or_right (is_among (all_names p) (codes "require")) true refl))

  shared : IsShared p q names
  shared = record {
    resolved = after;
    written = written;
    whole = last;
    made = ap (λ bs. names_among (with_each bs first).made) local-names ∙ made-names names first.free_symbol first;
    bindings = known.bindings;
    require = λ e. none-found ((list_place (source q)).scope (codes "require")) (require-same ∙ ap is_some e);
    form = form-then;
    kept = rules-bare after q written kept.kept;
    outside = outside-then (law_outside_bare_proof p seen_source (sym same)) (outside-then more.outside (outside-then kept.outside (law_outside_bare_proof after q written)));
  }

pub law_keys_shared_proof : LawKeysShared
law_keys_shared_proof p q names form right h = shared p q names form right h
