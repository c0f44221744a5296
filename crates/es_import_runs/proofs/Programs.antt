-- A program that imports the helper of object spread, or requires it, runs as it runs where the helper is a member of `babelHelpers`.
use Rattle.std.proofs.Common.{◌≡◌, ◌∙◌, ℕ, refl, sym, ap, subst, List, [], ◌∷◌, ◌++◌}
use Rattle.std.proofs.lemmas.Bool.{and_parts}
use Rattle.std.proofs.lemmas.Slice.Eq.{bytes_eq-Decides}
use Rattle.std.specs.List.{list_all}
use Rattle.std.specs.Prelude.{◌&&◌, Bool, true, false, not, Some, None, bytes_eq, codes, if◌then◌else◌, map, nat_eq}
use Rattle.es_tree.specs.Names.{first_text}
use Rattle.es_tree.specs.Helpers.{helper_text}
use Rattle.es_tree.specs.Scopes.{Declared, own_text}
use Rattle.es_tree.specs.Tree.{Tree, node, Label, done, ◌then◌, one, many, Trees, empty, ◌before◌, trees}
use Rattle.es_tree.specs.Walks.{all_in_trees, all_nodes}
use Rattle.es_tree.specs.Words.{Text}
use Rattle.es_tree.specs.declared.ast_type.AstType.TheVariants.{Identifier, ImportDeclaration, ImportDefaultSpecifier}
use Rattle.es_tree.specs.declared.helper.Helper.{Helper}
use Rattle.es_tree.specs.declared.helper.Helper.TheVariants.{ObjectSpread2}
use Rattle.es_tree.specs.declared.options.HelperLoaderMode.TheVariants.{Runtime}
use Rattle.es_resolution.specs.Declarations.{Bound}
use Rattle.es_resolution.proofs.AllForms.{All}
use Rattle.es_runs.specs.Alike.{Equal, Same, SameWorld, the_value}
use Rattle.es_runs.specs.Core.{Silent, World, is_free}
use Rattle.es_runs.specs.Core.Binding.{free, silent}
use Rattle.es_runs.specs.Core.Silent.{helper_name}
use Rattle.es_runs.specs.Machine.{Move, Value}
use Rattle.es_runs.specs.Runs.{is_declared, only, program, scope_of}
use Rattle.es_runs.proofs.Temporary.{bytes_eq-flip, bytes_eq-self}
use Rattle.es_steps.specs.Open.{after_imports}
use Rattle.es_statement_runs.specs.Alike.{SensesLike}
use Rattle.es_statement_runs.specs.Helpers.{Supply, constants_in, entry, helper_in, helper_names, imported_helper, imported_helpers, is_helper, is_named, program_list, silent_names, without_prefix, if_helper, named_helper}
use Rattle.es_statement_runs.specs.Helpers.Supply.{by_global, by_import, by_require}
use Rattle.es_statement_runs.specs.Kinds.{found, kind_in, senses}
use Rattle.es_statement_runs.specs.Laws.{apart_from}
use Rattle.es_statement_runs.specs.Names.{top_in, top_names, using_here}
use Rattle.es_statement_runs.specs.Senses.{Sense}
use Rattle.es_statement_runs.specs.Places.{placed_at, take}
use Rattle.es_statement_runs.specs.Programs.{supply_by}
use Rattle.es_statement_runs.specs.Runs.{program_world, run, silent_or}
use Rattle.es_statement_runs.proofs.BareVars.{start_same, top_bound}
use Rattle.es_statement_runs.proofs.Catches.{one_quiet, one_stack, undeclared_hidden}
use Rattle.es_statement_runs.proofs.Everywhere.PlaceLike.{place_like}
use Rattle.es_statement_runs.proofs.Programs.{body_taken}
use Rattle.es_statement_runs.proofs.RunLaws.{same_run}
use Rattle.es_helper_calls.specs.HelperCalls.{bound_of, nameless, calling, calling_among, helpers_among, helpers_in, is_helper as is_this}
use Rattle.es_helper_calls.specs.Importing.{is_module}
use Rattle.es_helper_imports.specs.Imported.{helper_source, imported_as, imports_of}
use Rattle.es_import_runs.specs.Laws.{CallsSpread, GetsNone, LawImportingProgram, RunUnder, no_helper_text, spread_name, supply_in}
use Rattle.es_statement_runs.specs.HelperMembers.{no_helper_member}
use Rattle.es_top_imports.specs.TopImports.{Import, import_of, require_of, top_of, with_top}
use Rattle.es_statement_runs.proofs.AkinSupplies.{akin-senses, import-akin}
use Rattle.es_import_runs.proofs.CalledNames.{Plainly, formed_plainly, tops_now, using_all_now}
use Rattle.es_import_runs.proofs.Callings.{AllNamed, all_left, trees_like}
use Rattle.es_import_runs.proofs.OnlyCopies.{handed_other}
use Rattle.es_import_runs.proofs.Constants.{none_listed}
use Rattle.es_import_runs.proofs.RequiredNames.{required_names}
use Rattle.es_import_runs.proofs.RequiringSupplies.{required_senses}
use Rattle.es_import_runs.proofs.Tops.{IsSilent, import_silent, imported_after, kinds_after, program_after, require_silent}
use Rattle.es_import_runs.proofs.UnwrittenNames.{called_texts_among, program_directives, unwritten_among}

-- THE HELPER in its module's name

nat_same : (n : ℕ) → nat_eq n n ≡ true
nat_same n = (and_parts (nat_eq n n) true (bytes_eq-self (n ∷ []))).0

prefix_off : (p t : Text) → without_prefix p (p ++ t) ≡ Some t
prefix_off [] t = refl
prefix_off (c ∷ cs) t = rw (nat_same c) (prefix_off cs t)

pub source_helper : (m : Text) → helper_in m (helper_source m ObjectSpread2) ≡ Some (codes "objectSpread2")
source_helper m = ap if_helper (prefix_off (m ++ codes "/helpers/") (codes "objectSpread2"))

-- IMPORTS of helpers stay those that they are

module _ (c : Helper → Tree) (m : Text) where
  text_now : (t : Tree) → own_text (calling c t) ≡ own_text t
  text_now (node k l fs) = refl

  import_now : (t : Tree) → imported_helper m (calling c t) ≡ imported_helper m t
  import_now (node ImportDeclaration l (many (node ImportDefaultSpecifier k (one x then done) before empty) then (one source then fs))) = λ i. named_helper (text_now x i) (helper_in m (text_now source i))
  import_now _ = refl

  pub imports_now : (ts : Trees) → imported_helpers m (calling_among c ts) ≡ imported_helpers m ts
  imports_now empty = refl
  imports_now (t before ts) = λ i. import_now t i ++ imports_now ts i

-- THE LAW

-- with the name of the helper alone, none excludes keys
abbrev pub ExcludesNone : Supply → List (Text × Silent) → Type 0
ExcludesNone u es = (f : Tree) → is_helper u es (codes "objectWithoutProperties") f ≡ false

other_helper : (x : Text) (l : Label) → is_named (codes "objectWithoutProperties") (entry ((x, helper_name (codes "objectSpread2")) ∷ []) (first_text l.texts)) ≡ false
other_helper x l = at (bytes_eq x (first_text l.texts))
  where
    at : (b : Bool) → is_named (codes "objectWithoutProperties") (if b then Some (helper_name (codes "objectSpread2")) else None) ≡ false
    at true = refl
    at false = refl

pub none_excludes : (in_module : Bool) (m x : Text) → ExcludesNone (supply_by Runtime m in_module) ((x, helper_name (codes "objectSpread2")) ∷ [])
none_excludes true m x (node Identifier l fs) = other_helper x l
none_excludes true m x _ = refl
none_excludes false m x (node Identifier l fs) = other_helper x l
none_excludes false m x _ = refl

not_false : (c : Bool) → not c ≡ false → c ≡ true
not_false true e = refl
not_false false e = absurd (cc e)

-- WHAT STANDS MORE in the program: a statement by which a name stands for the helper

module _ (m : Text) (l : Label) (ds body : Trees) (b : Bound) (h : CallsSpread m l ds body b) where
  abbrev x : Text
  x = b.name

  abbrev item : Import
  item = record { source = helper_source m ObjectSpread2; local = b }

  abbrev us : Trees
  us = calling_among (spread_name b) body

  abbrev p : Tree
  p = program l ds body

  abbrev said : Silent
  said = helper_name (codes "objectSpread2")

  parts : All Plainly p
  parts = formed_plainly p h.form

  -- what calls the helper by its name declares the same
  same_tops : top_in us ≡ top_in body
  same_tops = tops_now (spread_name b) (λ g. refl) body parts.1.1.0

  apart : all_in_trees no_helper_member us ≡ true
  apart = let d = and_parts (all_in_trees no_helper_member (calling_among (spread_name b) ds)) (all_in_trees no_helper_member us && true) h.called in (and_parts (all_in_trees no_helper_member us) true d.1).0

  module _ (o : Supply) (n : Tree) where
    abbrev after : Trees
    after = after_imports (n before empty) us

    abbrev q : Tree
    q = program l (calling_among (spread_name b) ds) after

    -- what is known of such a statement, under this supply of helpers
    record Stands : Type 0 where
      names : silent_names o q ≡ (x, said) ∷ []
      alike : (v : World) → senses (placed_at by_global v [] []) us ≡ senses (placed_at o v [] []) us
      declares : (y : Text) → only x y ≡ false → (es : List Declared) → kind_in (top_names n ++ es) y ≡ kind_in es y
      quiet : using_here n ≡ false
      silent_there : (this : Value) → (program_world o this q).scope x ≡ silent said → IsSilent o (only x) (program_world o this q) n

    module _ (it : Stands) where
      tops : (y : Text) → only x y ≡ false → kind_in (top_in after) y ≡ kind_in (top_in body) y
      tops y e = kinds_after y n (it.declares y e) us ∙ ap (λ (es : List Declared). kind_in es y) same_tops

      -- WORLDS

      module _ (this : Value) where
        abbrev w : World
        w = program_world by_global this p

        abbrev v : World
        v = program_world o this q

        scope_before : (y : Text) → w.scope y ≡ scope_of (top_in body) y
        scope_before y = ap (λ (es : List (Text × Silent)). silent_or (entry es y) (scope_of (top_in body) y)) h.silent

        scope_after : (y : Text) → v.scope y ≡ silent_or (if bytes_eq x y then Some said else None) (scope_of (top_in after) y)
        scope_after y = ap (λ (es : List (Text × Silent)). silent_or (entry es y) (scope_of (top_in after) y)) it.names

        bound : v.scope x ≡ silent said
        bound = scope_after x ∙ ap (λ (c : Bool). silent_or (if c then Some said else None) (scope_of (top_in after) x)) (bytes_eq-self x)

        same : SameWorld (only x) w v
        same = record {
          scope = λ y e. scope_after y ∙ ap (λ (c : Bool). silent_or (if c then Some said else None) (scope_of (top_in after) y)) (bytes_eq-flip x y ∙ e) ∙ (rw (top_bound (top_in after) y, top_bound (top_in body) y, tops y e) refl) ∙ sym (scope_before y);
          this = refl;
          counts = refl;
        }

        abbrev known : Helper → Bool
        known g = is_this ObjectSpread2 g

        named_so : (g : Helper) → known g ≡ true → bound_of (ObjectSpread2 ∷ []) (b ∷ []) g ≡ b
        named_so g e = ap (λ (c : Bool). if c then b else nameless) e

        hides : (g : Helper) → known g ≡ true → only x (bound_of (ObjectSpread2 ∷ []) (b ∷ []) g).name ≡ true
        hides g e = ap (λ (c : Bound). only x c.name) (named_so g e) ∙ bytes_eq-self x

        stands : (g : Helper) → known g ≡ true → v.scope (bound_of (ObjectSpread2 ∷ []) (b ∷ []) g).name ≡ silent (helper_name (helper_text g))
        stands g e = ap (λ (c : Bound). v.scope c.name) (named_so g e) ∙ bound ∙ ap (λ (t : Text). silent (helper_name t)) ((bytes_eq-Decides (helper_text ObjectSpread2) (helper_text g)).0 e)

        free_before : is_free (w.scope (codes "babelHelpers")) ≡ true
        free_before = ap is_free (scope_before (codes "babelHelpers")) ∙ not_false (is_free (scope_of (top_in body) (codes "babelHelpers"))) h.global

        all_known : (gs : List Helper) → list_all known gs ≡ true → AllNamed (only x) known (bound_of (ObjectSpread2 ∷ []) (b ∷ [])) hides gs
        all_known [] e = tt
        all_known (g ∷ gs) e = let d = and_parts (known g) (list_all known gs) e in (d.0, all_known gs d.1)

        all_in_body : AllNamed (only x) known (bound_of (ObjectSpread2 ∷ []) (b ∷ [])) hides (helpers_among body)
        all_in_body =
            let left = all_left (only x) known (bound_of (ObjectSpread2 ∷ []) (b ∷ [])) hides in
            let all = left (helpers_among ds ++ (helpers_among body ++ [])) [] (all_known (helpers_in p) h.spreads) in
            (left (helpers_among body) [] (left (helpers_among ds) (helpers_among body ++ []) all.0).1).0

        like : SensesLike (apart_from x) w v body_taken (senses (placed_at by_global w [] []) body) (senses (placed_at o v [] []) us)
        like = subst (λ (es : List Sense). SensesLike (apart_from x) w v body_taken (senses (placed_at by_global w [] []) body) es) (it.alike v)
            (trees_like (only x) known (bound_of (ObjectSpread2 ∷ []) (b ∷ [])) hides (one_quiet x h.math h.no_cell) (one_stack x h.no_cell) h.seen handed_other body body_taken refl h.name parts.1.1.0 all_in_body (place_like same (record { global = free_before; names = stands })))

        runs : (k : ℕ) (moves : List Move) → Same (apart_from x) Equal (run by_global k p this moves) (run o k q this moves)
        runs k moves = program_after by_global o (only x) w v same (one_quiet x h.math h.no_cell) n (it.silent_there this bound) (one_stack x h.no_cell) it.quiet l ds (calling_among (spread_name b) ds) body us like
            (using_all_now (spread_name b) (λ g. refl) body) _ _ (start_same (only x) (top_in body) (top_in after) tops k moves)

      as_before : RunUnder by_global o p q
      as_before k this moves in_sight = same_run (apart_from x) (is_declared (top_in body)) (undeclared_hidden x (top_in body) h.undeclared) in_sight (runs this k moves)

  -- AN IMPORT, in a module

  other_name : (y : Text) → only x y ≡ false → (kind : Text) (es : List Declared) → kind_in (record { name = x; kind = kind } ∷ es) y ≡ kind_in es y
  other_name y e kind es = ap (λ (c : Bool). if c then Some kind else kind_in es y) e

  none_more : (o : Supply) → ExcludesNone o ((x, said) ∷ []) → (q : Tree) → helper_names o q ≡ (x, said) ∷ [] → helper_names o q ++ constants_in o (helper_names o q) q (program_list q) ≡ (x, said) ∷ []
  none_more o none q e = (λ i. e i ++ constants_in o (e i) q (program_list q)) ∙ (λ i. (x, said) ∷ none_listed o ((x, said) ∷ []) none q (program_list q) i)

  imported : helper_names (by_import m) p ≡ [] → imported_helpers m (after (by_import m) (import_of item)) ≡ (x, said) ∷ []
  imported e = imported_after m (import_of item) (x, said) (ap (named_helper x) (source_helper m)) us (imports_now (spread_name b) m body ∙ e)

  import_stands : helper_names (by_import m) p ≡ [] → Stands (by_import m) (import_of item)
  import_stands e = record {
    names = none_more (by_import m) (none_excludes true m x) (q (by_import m) (import_of item)) (imported e);
    alike = λ v. akin-senses by_global (by_import m) (import-akin m) us apart v [] [];
    declares = λ y d es. other_name y d (codes "const") es;
    quiet = refl;
    silent_there = λ this bound. import_silent (by_import m) item (codes "objectSpread2") (program_world (by_import m) this (q (by_import m) (import_of item))) bound;
  }

  -- A CALL OF `require`, in a script

  module _ (texts : all_nodes (no_helper_text m) p ≡ true) (require : is_declared (top_in body) (codes "require") ≡ false) where
    abbrev calls : Tree
    calls = require_of item

    abbrev after_call : Trees
    after_call = after_imports (calls before empty) us

    abbrev calling_program : Tree
    calling_program = program l (calling_among (spread_name b) ds) after_call

    no_texts : all_in_trees (no_helper_text m) us ≡ true
    no_texts =
        let d = and_parts (all_in_trees (no_helper_text m) ds) (all_in_trees (no_helper_text m) body && true) texts in
        called_texts_among (bound_of (ObjectSpread2 ∷ []) (b ∷ [])) m body (and_parts (all_in_trees (no_helper_text m) body) true d.1).0

    other_require : only x (codes "require") ≡ false
    other_require = h.seen.require

    unbound : is_declared (top_in after_call) (codes "require") ≡ false
    unbound =
        let kinds : kind_in (top_in after_call) (codes "require") ≡ kind_in (top_in body) (codes "require") = kinds_after (codes "require") calls (other_name (codes "require") other_require (codes "var")) us ∙ ap (λ (es : List Declared). kind_in es (codes "require")) same_tops in
        (λ i. not (is_free (top_bound (top_in after_call) (codes "require") i))) ∙ (λ i. not (is_free (found (kinds i) (codes "require") (λ z. free) (codes "require")))) ∙ (λ i. not (is_free (sym (top_bound (top_in body) (codes "require")) i))) ∙ require

    required : helper_names (by_require m) calling_program ≡ (x, said) ∷ []
    required =
        let c = bound_of (ObjectSpread2 ∷ []) (b ∷ []) in
        required_names m (codes "objectSpread2") item l (calling_among (spread_name b) ds) us (source_helper m) no_texts (ap (λ (es : List Declared). is_declared es x) same_tops ∙ h.undeclared)
        (program_directives c x l ds body h.form) (unwritten_among c x body (take the_value true) h.name) unbound

    silents : silent_names (by_require m) calling_program ≡ (x, said) ∷ []
    silents = none_more (by_require m) (none_excludes false m x) calling_program required

    require_free : (this : Value) → is_free ((program_world (by_require m) this calling_program).scope (codes "require")) ≡ true
    require_free this =
        ap (λ (es : List (Text × Silent)). is_free (silent_or (entry es (codes "require")) (scope_of (top_in after_call) (codes "require")))) silents ∙
        ap (λ (c : Bool). is_free (silent_or (if c then Some said else None) (scope_of (top_in after_call) (codes "require")))) (bytes_eq-flip x (codes "require") ∙ other_require) ∙
        not_false (is_free (scope_of (top_in after_call) (codes "require"))) unbound

    call_stands : Stands (by_require m) calls
    call_stands = record {
      names = silents;
      alike = λ v. akin-senses by_global (by_import m) (import-akin m) us apart v [] [] ∙ required_senses m us no_texts v [] [];
      declares = λ y d es. other_name y d (codes "var") es;
      quiet = refl;
      silent_there = λ this bound. require_silent m (codes "objectSpread2") item (program_world (by_require m) this calling_program) bound (require_free this) (source_helper m);
    }

  -- THE PROGRAM by its sort

  abbrev Goes : Bool → Type 0
  Goes c = RunUnder by_global (supply_by Runtime m c) p (with_top (trees (map (top_of c) (imports_of m (ObjectSpread2 ∷ []) (b ∷ [])))) (calling (spread_name b) p))

  goes : (c : Bool) → GetsNone c m p → (c ≡ false → is_declared (top_in body) (codes "require") ≡ false) → Goes c
  goes true none require = as_before (by_import m) (import_of item) (import_stands none)
  goes false none require = as_before (by_require m) (require_of item) (call_stands none (require refl))

  -- the names of what imports it, or requires it, that stand for helpers
  abbrev NamesIt : Bool → Type 0
  NamesIt c = helper_names (supply_by Runtime m c) (with_top (trees (map (top_of c) (imports_of m (ObjectSpread2 ∷ []) (b ∷ [])))) (calling (spread_name b) p)) ≡ (x, said) ∷ []

  names_it : (c : Bool) → GetsNone c m p → (c ≡ false → is_declared (top_in body) (codes "require") ≡ false) → NamesIt c
  names_it true none require = imported none
  names_it false none require = required none (require refl)

  pub importing_names : helper_names (supply_in m p) (imported_as m (ObjectSpread2 ∷ []) (b ∷ []) p) ≡ (x, said) ∷ []
  importing_names = names_it (is_module p) h.helpers h.require

pub law_importing_program_proof : LawImportingProgram
law_importing_program_proof m l ds body b h = goes m l ds body b h (is_module (program l ds body)) h.helpers h.require
