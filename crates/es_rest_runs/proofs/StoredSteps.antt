-- Steps in a row by which values of patterns are stored: each keeps the class, and the runs.
use Rattle.std.proofs.Common.{◌≡◌, inl, inr, refl, sym, ap, subst, ◌∙◌, [], arith}
use Rattle.std.proofs.lemmas.Bool.{and_from, and_parts}
use Rattle.std.specs.Prelude.{Bool, true, false, not, ◌&&◌, None, codes, length}
use Rattle.es_tree.specs.Fresh.{is_among}
use Rattle.es_tree.specs.HasForm.{has_form}
use Rattle.es_tree.specs.Names.{names_of}
use Rattle.es_tree.specs.Tree.{Tree, node, Label, Fields, done, ◌then◌, Field, missing, one, many, statements, Trees, empty, ◌before◌, kind_of}
use Rattle.es_tree.specs.Walks.{all_nodes, all_in_field, all_in_fields, all_in_trees}
use Rattle.es_tree.specs.Words.{Text}
use Rattle.es_tree.specs.declared.ast_type.AstType.{AstType}
use Rattle.es_tree.specs.declared.ast_type.AstType.TheVariants.{CallExpression, Identifier, MetaProperty, ObjectProperty, Program, VariableDeclaration, VariableDeclarator}
use Rattle.es_tree.specs.declared.table.Sort.TheVariants.{Program as s-Program}
use Rattle.es_runs.specs.Runs.{is_declared}
use Rattle.es_semantic.specs.RolesOf.{reads}
use Rattle.es_semantic.specs.SymbolsOf.{symbols_of}
use Rattle.es_resolution.specs.Declarations.{Bound}
use Rattle.es_resolution.specs.Laws.{source}
use Rattle.es_resolution.proofs.Forms.{form-placed}
use Rattle.es_resolution.proofs.Sources.{law_named_proof}
use Rattle.es_changes.proofs.StepRows.{steps-trans}
use Rattle.es_steps.specs.AllRules.{AllRules}
use Rattle.es_steps.specs.Laws.{IsWellBound, nothing_beside}
use Rattle.es_steps.specs.Nodes.{declarator_with, identifier, joined_trees}
use Rattle.es_steps.specs.ObjectRest.{SplitRule, declares_as, pattern_node}
use Rattle.es_steps.specs.ObjectRest.SplitRule.{splits}
use Rattle.es_steps.specs.ObjectRest.SplitsOff.{source as stores_source}
use Rattle.es_steps.specs.Open.{Open, finished, no_additions, nothing_pending, opened}
use Rattle.es_steps.specs.Rules.{next_name}
use Rattle.es_steps.specs.Steps.{Ledger, Site, Spot, Step, Steps, Whole, ledger, the_program}
use Rattle.es_steps.specs.Steps.Steps.{goes, stays}
use Rattle.es_steps.proofs.BridgeInclusion.{all_under}
use Rattle.es_steps.proofs.Laws.{law_steps_proof}
use Rattle.es_steps.proofs.Opened.{finished-opened}
use Rattle.es_steps.proofs.Taken.{pending_in, this_in, top_in as top_beside, whole_in}
use Rattle.es_valid_rests.specs.Laws.{with_rests}
use Rattle.es_valid_rests.specs.RestRules.{Binding, OutsidePart, RestPart, Unexported, all_declare}
use Rattle.es_valid_rests.proofs.RestPrograms.{law_rest_rules_proof}
use Rattle.es_valid_rests.proofs.RestSteps.{law_rest_form_proof}
use Rattle.es_rest_rows.specs.RestRows.{RestRow}
use Rattle.es_rest_rows.specs.RestRows.RowsWhere.{nested, stores, takes}
use Rattle.es_rest_rows.proofs.PlainPatterns.{plain-holds}
use Rattle.es_statement_runs.specs.Helpers.{is_helper}
use Rattle.es_statement_runs.specs.Helpers.Supply.{by_global}
use Rattle.es_statement_runs.specs.Names.{declared_at_top}
use Rattle.es_statement_runs.specs.Programs.{IsStatementProgram, is_statement_node, names_no_cell, uses_no_helper}
use Rattle.es_statement_runs.proofs.Composing.{law_then_proof}
use Rattle.es_statement_steps.proofs.KeylessPrograms.{excludes_none}
use Rattle.es_statement_steps.proofs.KeylessSources.{named-keyless, same-keyless}
use Rattle.es_statement_steps.proofs.MadeNames.{is_made_text, made_no_cell}
use Rattle.es_statement_steps.proofs.ReachedRuns.{source-bare}
use Rattle.es_rest_runs.specs.Changing.{Changed, ChangedIn}
use Rattle.es_rest_runs.specs.Laws.{LawNoNameExcluded, LawStoresInRow, RunsOn, StoresRow, excludes_no_name, is_a_name, is_stored}
use Rattle.es_rest_runs.specs.Quiet.{IsQuiet}
use Rattle.es_rest_runs.proofs.Kept.{Redeclared, call_still, nodes_kept}
use Rattle.es_rest_runs.proofs.Kept.Redeclared.{redeclared}
use Rattle.es_rest_runs.proofs.NoSilence.{no_silent}
use Rattle.es_rest_runs.proofs.QuietSteps.{opened_quiet}
use Rattle.es_rest_runs.proofs.SomeOptions.{some_options}
use Rattle.es_rest_runs.proofs.Stores.{SomeStored, StoredAt, stored_alike}
use Rattle.es_rest_runs.proofs.Stores.StoredAt.{stored_at}

-- THE ROW AMONG THE RULES of object rests

joined_declare : (a c d : Trees) → (all_declare c ≡ true → all_declare d ≡ true) → all_declare (joined_trees a c) ≡ true → all_declare (joined_trees a d) ≡ true
joined_declare empty c d f e = f e
joined_declare (t before a) c d f e =
    let h = and_parts _ (all_declare (joined_trees a c)) e in
    and_from _ (all_declare (joined_trees a d)) h.0 (joined_declare a c d f h.1)

split_of : {n : Site} {s s' : Ledger} {x y : Spot} (r : RestRow n s x s' y) → is_stored r ≡ true → Unexported (Binding SplitRule) n s x s' y
split_of (stores {w = w} m l a c p e x out kind plain binds kept silent fresh) so =
    let d = declares_as l p e in
    let es : Trees = declarator_with (identifier (next_name w x)) e before declares_as l p (identifier (next_name w x)) before empty in
    ((splits m a c d es x fresh.free kind (stores_source l p e (plain-holds p plain) fresh silent), joined_declare a (d before c) (joined_trees es c) (λ h. h) binds), out)
split_of (takes m l lp lr ls a ps c t xs b1 b2 b3 b4 b5 b6 b7 b8 b9) so = absurd (cc so)
split_of (nested m l lp lq ls a ps rs c k p v u x b1 b2 b3 b4 b5 b6 b7 b8 b9) so = absurd (cc so)

among_form : (n : Site) (s : Ledger) (x : Spot) (s' : Ledger) (y : Spot) → StoresRow n s x s' y → with_rests RestPart some_options n s x s' y
among_form n s x s' y h = inr (inl (split_of h.row h.stored).0)

among_rules : (n : Site) (s : Ledger) (x : Spot) (s' : Ledger) (y : Spot) → StoresRow n s x s' y → with_rests OutsidePart some_options n s x s' y
among_rules n s x s' y h = inr (inl (split_of h.row h.stored))

among_all : (n : Site) (s : Ledger) (x : Spot) (s' : Ledger) (y : Spot) → StoresRow n s x s' y → AllRules some_options n s x s' y
among_all n s x s' y h = inr (inr (inr (inl (inr (inl (split_of h.row h.stored).0.0)))))

-- TESTS of every node, which the row keeps

joined_kept : (c : AstType → Label → Fields → Bool) (a ts us : Trees) → (all_in_trees c ts ≡ true → all_in_trees c us ≡ true) → all_in_trees c (joined_trees a ts) ≡ true → all_in_trees c (joined_trees a us) ≡ true
joined_kept c empty ts us f h = f h
joined_kept c (t before a) ts us f h =
    let d = and_parts (all_nodes c t) (all_in_trees c (joined_trees a ts)) h in
    and_from (all_nodes c t) (all_in_trees c (joined_trees a us)) d.0 (joined_kept c a ts us f d.1)

module _ (test : AstType → Label → Fields → Bool) (declaration_so : (l : Label) (fs : Fields) → test VariableDeclaration l fs ≡ true) (declarator_so : (l : Label) (fs : Fields) → test VariableDeclarator l fs ≡ true)
    (name_so : (b : Bound) → is_made_text b.name ≡ true → all_nodes test (identifier b) ≡ true) where
  declarator_kept : (l : Label) (p e : Tree) → all_nodes test p ≡ true → all_nodes test e ≡ true → all_nodes test (declares_as l p e) ≡ true
  declarator_kept l p e h g = and_from (test VariableDeclarator l _) _ (declarator_so l _) (and_from (all_nodes test p) _ h (and_from (all_nodes test e) true g refl))

  stored_kept : (w : Whole) (a b : Tree) → SomeStored w a b → all_nodes test a ≡ true → all_nodes test b ≡ true
  stored_kept w a b h t = at a b h.holds t
    where
      at : (a b : Tree) → StoredAt w h.index a b → all_nodes test a ≡ true → all_nodes test b ≡ true
      at _ _ (stored_at m l lp a c ps e s word new) t =
          let P = pattern_node lp ps in
          let x : Tree = identifier (record { name = h.index.1; symbol = s }) in
          let first = declares_as l P e before c in
          let second = declarator_with x e before declares_as l P x before c in
          let named = name_so (record { name = h.index.1; symbol = s }) new.1 in
          let fields = (and_parts (test VariableDeclaration m (many (joined_trees a first) then done)) (all_in_trees test (joined_trees a first) && true) t).1 in
          let list = (and_parts (all_in_trees test (joined_trees a first)) true fields).0 in
          let change = λ (g : all_in_trees test first ≡ true).
          let d = and_parts (all_nodes test (declares_as l P e)) (all_in_trees test c) g in
          let parts = (and_parts (test VariableDeclarator l (one P then (one e then done))) (all_nodes test P && (all_nodes test e && true)) d.0).1 in
          let q = and_parts (all_nodes test P) (all_nodes test e && true) parts in
          let value = (and_parts (all_nodes test e) true q.1).0 in
          and_from (all_nodes test (declarator_with x e)) (all_nodes test (declares_as l P x) && all_in_trees test c) (declarator_kept _ x e named value) (and_from (all_nodes test (declares_as l P x)) (all_in_trees test c) (declarator_kept l P x q.0 named) d.1) in
          and_from (test VariableDeclaration m (many (joined_trees a second) then done)) (all_in_trees test (joined_trees a second) && true) (declaration_so m _) (and_from (all_in_trees test (joined_trees a second)) true (joined_kept test a first second change list) refl)

same_declaration : (w : Whole) (a b : Tree) → SomeStored w a b → Redeclared a b
same_declaration w a b h = at a b h.holds
  where
    at : (a b : Tree) → StoredAt w h.index a b → Redeclared a b
    at _ _ (stored_at m l lp a c ps e s word new) = redeclared m _ _

statement_still : {A : Tree → Tree → Type 0} (k : AstType) (l : Label) (fs gs : Fields) → ChangedIn A fs gs → is_statement_node k l fs ≡ true → is_statement_node k l gs ≡ true
statement_still ObjectProperty l fs gs h t = t
statement_still MetaProperty l fs gs h t = t
statement_still _ l fs gs h t = t

cell_still : {A : Tree → Tree → Type 0} (k : AstType) (l : Label) (fs gs : Fields) → ChangedIn A fs gs → names_no_cell k l fs ≡ true → names_no_cell k l gs ≡ true
cell_still Identifier l fs gs h t = t
cell_still _ l fs gs h t = refl

without_functions_kept : {w : Whole} {a b : Tree} → Changed (SomeStored w) a b → all_nodes is_statement_node a ≡ true → all_nodes is_statement_node b ≡ true
without_functions_kept {w = w} h t = nodes_kept (SomeStored w) is_statement_node (stored_kept is_statement_node (λ l fs. refl) (λ l fs. refl) (λ b e. refl) w) statement_still h t

names_kept : {w : Whole} {a b : Tree} → Changed (SomeStored w) a b → all_nodes names_no_cell a ≡ true → all_nodes names_no_cell b ≡ true
names_kept {w = w} h t = nodes_kept (SomeStored w) names_no_cell (stored_kept names_no_cell (λ l fs. refl) (λ l fs. refl) (λ b e. ap (λ c. not c && true) (made_no_cell b.name e)) w) cell_still h t

calls_kept : {w : Whole} {a b : Tree} → Changed (SomeStored w) a b → all_nodes excludes_no_name a ≡ true → all_nodes excludes_no_name b ≡ true
calls_kept {w = w} h t = nodes_kept (SomeStored w) excludes_no_name (stored_kept excludes_no_name (λ l fs. refl) (λ l fs. refl) (λ b e. refl) w) (call_still (SomeStored w) (same_declaration w)) h t

-- A SOURCE that uses no helper itself

module _ (c d : AstType → Label → Fields → Bool) (so : (k : AstType) (l : Label) (fs : Fields) → c k l fs ≡ true → d k l fs ≡ true) where
  mutual
    nodes_so : (t : Tree) → all_nodes c t ≡ true → all_nodes d t ≡ true
    nodes_so (node k l fs) h = let q = and_parts (c k l fs) (all_in_fields c fs) h in and_from (d k l fs) (all_in_fields d fs) (so k l fs q.0) (nodes_in fs q.1)

    nodes_in : (fs : Fields) → all_in_fields c fs ≡ true → all_in_fields d fs ≡ true
    nodes_in done h = refl
    nodes_in (f then fs) h = let q = and_parts (all_in_field c f) (all_in_fields c fs) h in and_from (all_in_field d f) (all_in_fields d fs) (nodes_by f q.0) (nodes_in fs q.1)

    nodes_by : (f : Field) → all_in_field c f ≡ true → all_in_field d f ≡ true
    nodes_by missing h = refl
    nodes_by (one t) h = nodes_so t h
    nodes_by (many ts) h = nodes_all ts h
    nodes_by (statements ts) h = nodes_all ts h

    nodes_all : (ts : Trees) → all_in_trees c ts ≡ true → all_in_trees d ts ≡ true
    nodes_all empty h = refl
    nodes_all (t before ts) h = let q = and_parts (all_nodes c t) (all_in_trees c ts) h in and_from (all_nodes d t) (all_in_trees d ts) (nodes_so t q.0) (nodes_all ts q.1)

of_keyless : (k : AstType) (l : Label) (fs : Fields) → excludes_none k l fs ≡ true → excludes_no_name k l fs ≡ true
of_keyless CallExpression l (one f then (many (e before (k before empty)) then fs)) h = at (is_helper by_global [] (codes "objectWithoutProperties") f) h
  where
    at : (b : Bool) → not b ≡ true → not (b && is_a_name k) ≡ true
    at true h = absurd (cc h)
    at false h = refl
of_keyless CallExpression l (one f then (many (e before (k before (t before ts))) then fs)) h = refl
of_keyless CallExpression l (one f then (many (e before empty) then fs)) h = refl
of_keyless CallExpression l (one f then (many empty then fs)) h = refl
of_keyless CallExpression l (one f then (missing then fs)) h = refl
of_keyless CallExpression l (one f then (one t then fs)) h = refl
of_keyless CallExpression l (one f then (statements ts then fs)) h = refl
of_keyless CallExpression l (one f then done) h = refl
of_keyless CallExpression l done h = refl
of_keyless CallExpression l (missing then fs) h = refl
of_keyless CallExpression l (many ts then fs) h = refl
of_keyless CallExpression l (statements ts then fs) h = refl
of_keyless _ l fs h = refl

not_so : (b : Bool) → not b ≡ true → b ≡ false
not_so true h = absurd (cc h)
not_so false h = refl

pub source_no_name : (p : Tree) → IsStatementProgram p → uses_no_helper by_global p ≡ true → all_nodes excludes_no_name (source p) ≡ true
source_no_name p class none =
    nodes_so excludes_none excludes_no_name of_keyless (source p)
    (named-keyless (length (symbols_of p)) (is_among (names_of p)) (not_so (is_among (names_of p) (codes "babelHelpers")) none) reads (source p) (law_named_proof p (is_among (names_of p)) (length (symbols_of p)) class.form class.rules (λ x e. e) (omega arith)))

pub law_no_name_excluded_proof : LawNoNameExcluded
law_no_name_excluded_proof p class none =
    nodes_so excludes_none excludes_no_name of_keyless p
    (same-keyless p (source p) (source-bare p)
    (named-keyless (length (symbols_of p)) (is_among (names_of p)) (not_so (is_among (names_of p) (codes "babelHelpers")) none) reads (source p) (law_named_proof p (is_among (names_of p)) (length (symbols_of p)) class.form class.rules (λ x e. e) (omega arith))))

-- STEPS IN A ROW

is_one : (t : Tree) → has_form s-Program t ≡ true → kind_of t ≡ Program
is_one (node k l fs) h = (form-placed (node k l fs) h).0

module _ (p : Tree) (w : Whole) (class : IsStatementProgram p) (bound : IsWellBound w p) where
  -- what is known after some of them
  record Now (s : Ledger) (t : Open) : Type 0 where
    steps : Steps (Step StoresRow the_program) (nothing_beside w) (opened p) s t
    beside : s ≡ nothing_beside (whole_in s)
    quiet : IsQuiet t
    good : RunsOn p (whole_in s) (finished t)
    declared : (z : Text) → is_declared (declared_at_top p) z ≡ true → is_declared (declared_at_top (finished t)) z ≡ true

  none_beside : (s : Ledger) → pending_in s ≡ nothing_pending → this_in s ≡ None → top_beside s ≡ no_additions → s ≡ nothing_beside (whole_in s)
  none_beside (ledger w p x a) e f g = λ i. ledger w (e i) (f i) (g i)

  onward : {s s' : Ledger} {t u : Open} → Now s t → Step StoresRow the_program s t s' u → Now s' u
  onward {s = s} {s' = s'} {t = t} {u = u} now step =
      let alike = stored_alike by_global s s' t u now.good.class now.good.bound.named step now.quiet (no_silent (finished t) now.good.no_name) in
      let beside = none_beside s' (alike.left.pending ∙ ap pending_in now.beside) (alike.left.this ∙ ap this_in now.beside) (alike.left.top ∙ ap top_beside now.beside) in
      let steps : Steps (Step StoresRow the_program) (nothing_beside w) (opened p) s' u = steps-trans now.steps (goes step stays) in
      let led = subst (λ (z : Ledger). Steps (Step StoresRow the_program) (nothing_beside w) (opened p) z u) beside steps in
      let no_name = calls_kept alike.left.changed now.good.no_name in
      record {
        steps = steps;
        beside = beside;
        quiet = alike.left.quiet;
        good = record {
          runs = law_then_proof by_global false p (finished t) (finished u) now.good.runs (alike.runs (no_silent (finished u) no_name)) now.declared;
          class = record {
            form = law_rest_form_proof some_options p w (whole_in s') u class.form (all_under StoresRow (with_rests RestPart some_options) among_form led);
            rules = law_rest_rules_proof some_options p w (whole_in s') u class.form class.rules bound (all_under StoresRow (with_rests OutsidePart some_options) among_rules led);
            without_functions = without_functions_kept alike.left.changed now.good.class.without_functions;
            names = names_kept alike.left.changed now.good.class.names;
          };
          bound = law_steps_proof some_options p w (whole_in s') u (is_one p class.form) bound (all_under StoresRow (AllRules some_options) among_all led);
          no_name = no_name;
        };
        declared = λ z e. alike.declared z (now.declared z e);
      }

  in_row : {s s' : Ledger} {t u : Open} → Now s t → Steps (Step StoresRow the_program) s t s' u → Now s' u
  in_row now stays = now
  in_row now (goes step rest) = in_row (onward now step) rest

  first : all_nodes excludes_no_name p ≡ true → Now (nothing_beside w) (opened p)
  first no_name = record {
    steps = stays;
    beside = refl;
    quiet = opened_quiet p;
    good = subst (λ (t : Tree). RunsOn p w t) (sym (finished-opened p)) (record {
      runs = λ n this moves assumed t ms inside. record { outcomes = refl; questions = refl; final_cells = λ y e i. refl };
      class = class;
      bound = bound;
      no_name = no_name;
    });
    declared = λ z e. subst (λ (t : Tree). is_declared (declared_at_top t) z ≡ true) (sym (finished-opened p)) e;
  }

pub law_stores_in_row_proof : LawStoresInRow
law_stores_in_row_proof w w' p q class bound no_name steps = (in_row p w class bound (first p w class bound no_name) steps).good
