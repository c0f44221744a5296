-- A program whose object rests are taken, from its source on.
use Rattle.std.proofs.Common.{arith, ◌≡◌, ◌∙◌, ℕ, zero, suc, refl, sym, ap, subst, [], List}
use Rattle.std.proofs.lemmas.Bool.{and_from, and_parts, not-true}
use Rattle.std.proofs.lemmas.Slice.Eq.{bytes_eq-Decides}
use Rattle.std.specs.Prelude.{Bool, true, false, ◌&&◌, ◌||◌, bytes_eq, codes, length, not}
use Rattle.es_tree.specs.Fresh.{is_among}
use Rattle.es_tree.specs.Names.{first_text, names_of}
use Rattle.es_tree.specs.Tree.{Tree, node, Label, Fields, done, ◌then◌, Field, missing, one, many, statements, Trees, empty, ◌before◌}
use Rattle.es_tree.specs.Bare.{bare, bare_field, bare_fields, bare_label, bare_trees}
use Rattle.es_tree.specs.Walks.{all_nodes, any_node}
use Rattle.es_tree.specs.Words.{Text}
use Rattle.es_tree.specs.declared.ast_type.AstType.{AstType}
use Rattle.es_tree.specs.declared.ast_type.AstType.TheVariants.{CallExpression, Identifier, MemberExpression, MetaProperty, ObjectPattern, ObjectProperty, VariableDeclarator}
use Rattle.es_runs.specs.Runs.{is_declared, none_hidden, only}
use Rattle.es_semantic.specs.RolesOf.{reads, role_at}
use Rattle.es_semantic.specs.SymbolsOf.{symbols_of}
use Rattle.es_semantic.specs.declared.place.Role.{Role}
use Rattle.es_semantic.specs.declared.place.Role.TheVariants.{Binds, Refers}
use Rattle.es_resolution.specs.Laws.{source}
use Rattle.es_resolution.specs.Named.{IsUsed, Named, NamedAll, NamedBy, NamedIn, OwnUsed}
use Rattle.es_resolution.proofs.Sources.{law_named_proof}
use Rattle.es_steps.specs.CoreBridge.{Reached, first_whole}
use Rattle.es_steps.specs.Laws.{nothing_beside}
use Rattle.es_steps.specs.Open.{Open, finished, opened}
use Rattle.es_steps.specs.Steps.{Whole}
use Rattle.es_steps.specs.Steps.Steps.{stays}
use Rattle.es_steps.proofs.Opened.{finished-opened}
use Rattle.es_reached.proofs.Results.{rules-bare, source-form, source-well-bound}
use Rattle.es_statement_runs.specs.Helpers.Supply.{by_global}
use Rattle.es_statement_runs.specs.Programs.{IsStatementProgram, is_statement_node, names_no_cell, uses_no_helper}
use Rattle.es_statement_steps.proofs.AvoidedNames.{AtNames, AtNamesAll, AtNamesBy, AtNamesIn, OwnAt, is_aimed}
use Rattle.es_statement_steps.proofs.BareRuns.{alike-seen}
use Rattle.es_statement_steps.proofs.BareTests.{fields-bare}
use Rattle.es_statement_steps.proofs.ReachedRuns.{source-bare}
use Rattle.es_statement_steps.proofs.Unwritten.{IsSparing, spared-of, steady-start}
use Rattle.es_rest_runs.specs.Laws.{keeps_made, LeavesHelpers, excludes_no_name, is_a_name}
use Rattle.es_rest_runs.proofs.StoredSteps.{source_no_name}
use Rattle.es_reached.specs.Reached.{built_rules}
use Rattle.es_rest_shapes.specs.HelperNames.{binds_helpers}
use Rattle.es_rest_rows.specs.Laws.{is_bound_helper}
use Rattle.es_rest_rows.specs.RestRows.{RestWalkRow}
use Rattle.es_rest_steps.specs.Laws.{Lead}
use Rattle.es_rest_runs.proofs.SomeOptions.{some_options}
use Rattle.es_rest_rows.proofs.HelperSteps.{law_helpers_unbound_proof}
use Rattle.es_rest_steps.proofs.WalkSteps.{law_rest_walks_proof}
use Rattle.es_rest_results.specs.Laws.{LawNoneTaken, LawRestWalkRuns, LawRestsAlone, RunsTaken}
use Rattle.es_rest_results.proofs.OtherRules.{law_others_idle_proof}
use Rattle.es_rest_results.proofs.RowsInRow.{IsOther, leaves_helpers, rows_run}
use Rattle.es_rest_results.proofs.SoundTrees.{Sound, Spared, sound_from, sound_names, sound_nodes}
use Rattle.es_rest_runs.proofs.SeenPrograms.{program_apt}
use Rattle.es_statement_runs.specs.Helpers.{is_helper, is_this_name}
use Rattle.es_statement_runs.specs.Names.{declared_at_top, is_word, names_of_all}
use Rattle.es_statement_runs.specs.Places.{Take, all_good, avoids, avoids_field, avoids_fields, avoids_trees, takes_of, value_taken}
use Rattle.es_statement_steps.proofs.BareScopes.{declared-bare, own-names-bare}
use Rattle.es_runs.specs.Alike.{Level, bad_names, is_bad}
use Rattle.es_tree.specs.HasForm.{has_form}
use Rattle.es_tree.proofs.BareForm.{has_form-bare}
use Rattle.es_tree.specs.Scopes.{Declared, own_text}
use Rattle.es_tree.specs.declared.table.Sort.TheVariants.{Program as s-Program}

-- THE NAMES of a source: none is `babelHelpers`

module _ (used : Text → Bool) (free : ℕ) (steady : ℕ → Bool) (apart : used (codes "babelHelpers") ≡ false) where
  other : (x : Text) → used x ≡ true → only (codes "babelHelpers") x ≡ false
  other x h = at (bytes_eq x (codes "babelHelpers")) refl
    where
      at : (b : Bool) → bytes_eq x (codes "babelHelpers") ≡ b → b ≡ false
      at true e = absurd (let no : true ≡ false = sym h ∙ ap used ((bytes_eq-Decides x (codes "babelHelpers")).0 e) ∙ apart in cc no)
      at false e = refl

  aimed_used : (r : Role) (x : Text) → IsUsed used r x → is_aimed r ≡ true → only (codes "babelHelpers") x ≡ false
  aimed_used (Binds b) x h a = other x h
  aimed_used (Refers f) x h a = other x h
  aimed_used _ x h a = absurd (cc a)

  -- what nothing writes
  abbrev Steady : (Role → Label → Type 0)
  Steady r l = (m : ℕ) → steady m ≡ true → IsSparing m r l

  own_spared : (r : Role) (k : AstType) (l : Label) → ((m : ℕ) → steady m ≡ true → OwnAt (IsSparing m) r k l) → OwnUsed used r k l → OwnAt (Spared steady) r k l
  own_spared r Identifier l h u = (h, aimed_used r (first_text l.texts) u)
  own_spared r _ l h u = tt

  mutual
    pub names_spared : (r : Role) (t : Tree) → ((m : ℕ) → steady m ≡ true → AtNames (IsSparing m) r t) → Named used free r t → AtNames (Spared steady) r t
    names_spared r (node k l fs) h n = (own_spared r k l (λ m e. (h m e).0) n.0.0, spared_in (role_at r k l fs) fs (λ m e. (h m e).1) n.1)

    spared_in : (roles : ℕ → Role) (fs : Fields) → ((m : ℕ) → steady m ≡ true → AtNamesIn (IsSparing m) roles fs) → NamedIn used free roles fs → AtNamesIn (Spared steady) roles fs
    spared_in roles done h n = tt
    spared_in roles (f then fs) h n = (spared_by (roles zero) f (λ m e. (h m e).0) n.0, spared_in (λ i. roles (suc i)) fs (λ m e. (h m e).1) n.1)

    spared_by : (r : Role) (f : Field) → ((m : ℕ) → steady m ≡ true → AtNamesBy (IsSparing m) r f) → NamedBy used free r f → AtNamesBy (Spared steady) r f
    spared_by r missing h n = tt
    spared_by r (one t) h n = names_spared r t h n
    spared_by r (many ts) h n = spared_all r ts h n
    spared_by r (statements ts) h n = spared_all r ts h n

    spared_all : (r : Role) (ts : Trees) → ((m : ℕ) → steady m ≡ true → AtNamesAll (IsSparing m) r ts) → NamedAll used free r ts → AtNamesAll (Spared steady) r ts
    spared_all r empty h n = tt
    spared_all r (t before ts) h n = (names_spared r t (λ m e. (h m e).0) n.0, spared_all r ts (λ m e. (h m e).1) n.1)

-- where no name is made, no value of a pattern is one
none_made : (r : Role) (k : AstType) (l : Label) (fs : Fields) → keeps_made [] k l fs ≡ true
none_made r VariableDeclarator l (one (node ObjectPattern lp ps) then (one (node Identifier ls done) then done)) = refl
none_made r _ l _ = refl

-- IDS AND MARKS mean nothing to what is known of a program

label_class : (k : AstType) (l : Label) (fs : Fields) → is_statement_node k (bare_label l) (bare_fields fs) ≡ is_statement_node k l fs
label_class ObjectProperty l fs = refl
label_class MetaProperty l fs = refl
label_class _ l fs = refl

label_cells : (k : AstType) (l : Label) (fs : Fields) → names_no_cell k (bare_label l) (bare_fields fs) ≡ names_no_cell k l fs
label_cells Identifier l fs = refl
label_cells _ l fs = refl

-- a call that leaves out keys

bare_name : (x : Text) (o : Tree) → is_this_name x (bare o) ≡ is_this_name x o
bare_name x (node Identifier l fs) = refl
bare_name x (node _ l fs) = refl

bare_text : (x : Tree) → own_text (bare x) ≡ own_text x
bare_text (node k l fs) = refl

abbrev leaves_out : Tree → Bool
leaves_out f = is_helper by_global [] (codes "objectWithoutProperties") f

bare_callee : (f : Tree) → leaves_out (bare f) ≡ leaves_out f
bare_callee (node MemberExpression l (one o then (one x then fs))) = λ i. bare_name (codes "babelHelpers") o i && is_word (codes "objectWithoutProperties") (bare_text x i)
bare_callee (node MemberExpression l done) = refl
bare_callee (node MemberExpression l (missing then fs)) = refl
bare_callee (node MemberExpression l (many ts then fs)) = refl
bare_callee (node MemberExpression l (statements ts then fs)) = refl
bare_callee (node MemberExpression l (one o then done)) = refl
bare_callee (node MemberExpression l (one o then (missing then fs))) = refl
bare_callee (node MemberExpression l (one o then (many ts then fs))) = refl
bare_callee (node MemberExpression l (one o then (statements ts then fs))) = refl
bare_callee (node Identifier l fs) = refl
bare_callee (node _ l fs) = refl

bare_is_name : (k : Tree) → is_a_name (bare k) ≡ is_a_name k
bare_is_name (node Identifier l fs) = refl
bare_is_name (node _ l fs) = refl

label_calls : (k : AstType) (l : Label) (fs : Fields) → excludes_no_name k (bare_label l) (bare_fields fs) ≡ excludes_no_name k l fs
label_calls CallExpression l (one f then (many (e before (k before empty)) then fs)) = λ i. not (bare_callee f i && bare_is_name k i)
label_calls CallExpression l (one f then (many (e before (k before (t before ts))) then fs)) = refl
label_calls CallExpression l (one f then (many (e before empty) then fs)) = refl
label_calls CallExpression l (one f then (many empty then fs)) = refl
label_calls CallExpression l (one f then (missing then fs)) = refl
label_calls CallExpression l (one f then (one t then fs)) = refl
label_calls CallExpression l (one f then (statements ts then fs)) = refl
label_calls CallExpression l (one f then done) = refl
label_calls CallExpression l done = refl
label_calls CallExpression l (missing then fs) = refl
label_calls CallExpression l (many ts then fs) = refl
label_calls CallExpression l (statements ts then fs) = refl
label_calls _ l fs = refl

module _ (P : AstType → Label → Fields → Bool) (same : (k : AstType) (l : Label) (fs : Fields) → P k (bare_label l) (bare_fields fs) ≡ P k l fs) where
  same_test : (t q : Tree) → bare t ≡ bare q → all_nodes P t ≡ true → all_nodes P q ≡ true
  same_test t q e h =
      let both : (all_nodes P q && true) ≡ (all_nodes P t && true) = sym (fields-bare P same (one q then done)) ∙ ap (λ (z : Tree). all_nodes P z && true) (sym e) ∙ fields-bare P same (one t then done) in
      (and_parts (all_nodes P q) true (both ∙ and_from (all_nodes P t) true h refl)).0

-- the names that it avoids
module _ (bad : Level → Text → Bool) where
  mutual
    avoids_bare : (n : Take) (t : Tree) → avoids bad n (bare t) ≡ avoids bad n t
    avoids_bare n (node k l fs) = λ i. not (is_bad bad n.need.level k l.texts) && (all_good bad (names_of_all (own-names-bare k fs i)) && avoids_bare_in (takes_of n k l.texts l.flags) fs i)

    avoids_bare_in : (c : ℕ → Take) (fs : Fields) → avoids_fields bad c (bare_fields fs) ≡ avoids_fields bad c fs
    avoids_bare_in c done = refl
    avoids_bare_in c (f then fs) = λ i. avoids_bare_by (c zero) f i && avoids_bare_in (λ j. c (suc j)) fs i

    avoids_bare_by : (n : Take) (f : Field) → avoids_field bad n (bare_field f) ≡ avoids_field bad n f
    avoids_bare_by n missing = refl
    avoids_bare_by n (one t) = avoids_bare n t
    avoids_bare_by n (many ts) = avoids_bare_all n ts
    avoids_bare_by n (statements ts) = avoids_bare_all n ts

    avoids_bare_all : (n : Take) (ts : Trees) → avoids_trees bad n (bare_trees ts) ≡ avoids_trees bad n ts
    avoids_bare_all n empty = refl
    avoids_bare_all n (t before ts) = λ i. avoids_bare n t i && avoids_bare_all n ts i

same_top : (t q : Tree) → bare t ≡ bare q → declared_at_top q ≡ declared_at_top t
same_top t q e = sym (declared-bare q) ∙ ap declared_at_top (sym e) ∙ declared-bare t

same_class : (t q : Tree) → bare t ≡ bare q → IsStatementProgram t → IsStatementProgram q
same_class t q e h = record {
  form = sym (has_form-bare s-Program q) ∙ ap (has_form s-Program) (sym e) ∙ has_form-bare s-Program t ∙ h.form;
  rules = rules-bare t q e h.rules;
  without_functions = same_test is_statement_node label_class t q e h.without_functions;
  names = same_test names_no_cell label_cells t q e h.names;
}

same_leaves : (t q : Tree) → bare t ≡ bare q → LeavesHelpers t → LeavesHelpers q
same_leaves t q e h =
    let bad = bad_names none_hidden (only (codes "babelHelpers")) in
    record {
      undeclared = ap (λ (ds : List Declared). is_declared ds (codes "babelHelpers")) (same_top t q e) ∙ h.undeclared;
      unwritten = sym (avoids_bare bad value_taken q) ∙ ap (λ (z : Tree). avoids bad value_taken z) (sym e) ∙ avoids_bare bad value_taken t ∙ h.unwritten;
    }

-- so what runs as a program is told by what is written alone
same_taken : (p r t q : Tree) → bare r ≡ bare p → bare t ≡ bare q → RunsTaken r t → RunsTaken p q
same_taken p r t q d e h = record {
  runs = alike-seen by_global refl false r t p q d e h.runs;
  declared = λ y g. ap (λ (ds : List Declared). is_declared ds y) (same_top t q e) ∙ h.declared y (ap (λ (ds : List Declared). is_declared ds y) (sym (same_top r p d)) ∙ g);
  class = same_class t q e h.class;
  no_name = same_test excludes_no_name label_calls t q e h.no_name;
  leaves = same_leaves t q e h.leaves;
}

module _ (p : Tree) (class : IsStatementProgram p) (none : uses_no_helper by_global p ≡ true) where
  abbrev used : Text → Bool
  used = is_among (names_of p)

  source_sound : Sound (first_whole p).steady reads (source p)
  source_sound =
      let named = law_named_proof p used (length (symbols_of p)) class.form class.rules (λ x e. e) (omega arith) in
      sound_from (first_whole p).steady reads (source p) (same_test is_statement_node label_class p (source p) (source-bare p) class.without_functions) (same_test names_no_cell label_cells p (source p) (source-bare p) class.names) (source_no_name p class none)
      (names_spared used (length (symbols_of p)) (first_whole p).steady (not-true (used (codes "babelHelpers")) none) reads (source p) (λ m e. spared-of m reads (source p) ((steady-start p).unwritten m e)) named)

  -- it runs as itself
  source_taken : RunsTaken (source p) (source p)
  source_taken =
      let there = same_class p (source p) (source-bare p) class in
      record {
        runs = λ n this moves assumed t ms inside. record { outcomes = refl; questions = refl; final_cells = λ y e i. refl };
        declared = λ y e. e;
        class = there;
        no_name = source_no_name p class none;
        leaves = leaves_helpers (source p) there.form (sound_names (first_whole p).steady IsOther (λ r l h. h.1) reads (source p) source_sound) (program_apt (source p) there).0;
      }

  -- it binds no `babelHelpers`, as no symbol of its has that name
  module _ (unbound : binds_helpers (symbols_of p) ≡ false) where
    abbrev start : Reached (built_rules some_options) p (first_whole p) [] (source p)
    start = record { whole = first_whole p; steps = stays; made = refl }

    abbrev none_bound : any_node is_bound_helper (source p) ≡ false
    none_bound = law_helpers_unbound_proof some_options p (source p) [] class.form class.rules unbound start

    none_kept : all_nodes (keeps_made []) (source p) ≡ true
    none_kept = sound_nodes (first_whole p).steady (keeps_made []) (λ r k l fs h. none_made r k l fs) reads (source p) source_sound

    helpers_used : (first_whole p).in_use (codes "babelHelpers") ≡ true
    helpers_used = or_true (used (codes "babelHelpers"))
      where
        or_true : (b : Bool) → (b || true) ≡ true
        or_true true = refl
        or_true false = refl

    walk_run : (w : Whole) (q : Open) → Lead RestWalkRow (first_whole p) (source p) w q → RunsTaken (source p) (finished q)
    walk_run w q walk =
        let form = source-form p class.form in
        let right = rules-bare p (source p) (source-bare p) class.rules in
        let bound = source-well-bound p class.form class.rules in
        let rows = law_rest_walks_proof (source p) (first_whole p) w q form bound none_bound helpers_used walk in
        rows_run (source p) (first_whole p) form right bound none_bound helpers_used source_sound none_kept (nothing_beside w) q rows

    pub from_source : (w : Whole) (q : Open) (r : Tree) → Lead RestWalkRow (first_whole p) (source p) w q → bare (finished q) ≡ bare r → RunsTaken p r
    from_source w q r walk written = same_taken p (source p) (finished q) r (sym (source-bare p)) written (walk_run w q walk)

pub law_rest_walk_runs_proof : LawRestWalkRuns
law_rest_walk_runs_proof p w q class none unbound walk = from_source p class none unbound w q (finished q) walk refl

pub law_rests_alone_proof : LawRestsAlone
law_rests_alone_proof o p q r t names w alone unbound h walk written =
    let idle = law_others_idle_proof o p r names alone.class alone.others h in
    let there : Lead RestWalkRow (first_whole p) (source p) w (opened t) = subst (λ (v : Whole). Lead RestWalkRow v (source p) w (opened t)) idle.1 (subst (λ (x : Tree). Lead RestWalkRow h.whole x w (opened t)) idle.0 walk) in
    from_source p alone.class alone.helpers unbound w (opened t) q there (ap bare (finished-opened t) ∙ written)

pub law_none_taken_proof : LawNoneTaken
law_none_taken_proof o p q r names alone h written =
    let idle = law_others_idle_proof o p r names alone.class alone.others h in
    same_taken p (source p) (source p) q (sym (source-bare p)) (sym (ap bare idle.0) ∙ written) (source_taken p alone.class alone.helpers)
