-- `var` statements without values do nothing: trees that are the same but for these are alike, and programs run alike.
use Rattle.std.proofs.Common.{◌≡◌, inl, inr, refl, List, [], ◌∷◌, ◌++◌, ap, ◌∙◌}
use Rattle.std.specs.Prelude.{◌⊎◌, ℕ, zero, suc, Bool, true, false, not, ◌&&◌, ◌||◌, Option, Some, None, codes, bytes_eq, if◌then◌else◌}
use Rattle.std.proofs.lemmas.Slice.Eq.{bytes_eq-Decides}
use Rattle.es_tree.specs.Words.{Text}
use Rattle.es_tree.specs.Names.{first_text}
use Rattle.es_tree.specs.Scopes.{Declared}
use Rattle.es_statement_runs.specs.Names.{declared_at_top}
use Rattle.es_tree.specs.Tree.{Tree, node, Label, Fields, ◌then◌, Field, Trees, empty, ◌before◌}
use Rattle.es_tree.specs.declared.ast_type.AstType.{AstType}
use Rattle.es_tree.specs.declared.ast_type.AstType.TheVariants.{BlockStatement, CatchClause, ForInStatement, ForOfStatement, ForStatement, Identifier, LabeledStatement, SwitchStatement, VariableDeclaration}
use Rattle.es_runs.specs.Machine.{Value, M, Move, Cell, State}
use Rattle.es_runs.specs.Machine.Value.{undefined, own}
use Rattle.es_runs.specs.Machine.OwnValue.{count}
use Rattle.es_runs.specs.Machine.Cell.{unset, holds}
use Rattle.es_runs.specs.Machine.State.{state}
use Rattle.es_runs.specs.Machine.Result.{gives}
use Rattle.es_runs.specs.Core.{World, Binding, Silent, value, in_order, declared, is_free}
use Rattle.es_runs.specs.Core.Binding.{changeable, constant, free, silent}
use Rattle.es_runs.specs.Core.Silent.{helper_name, keys_name}
use Rattle.es_runs.specs.Alike.{Frame, Agree, Alike, Equal, SameWorld, Level, bad_names, the_value}
use Rattle.es_runs.specs.Alike.Level.{a_target}
use Rattle.es_runs.specs.Alike.Agree.{agree}
use Rattle.es_runs.specs.Runs.{none_hidden, program, is_declared, scope_of, binding_of, cells_of, first_cell}
use Rattle.es_runs.proofs.Basic.{then_alike, return_alike}
use Rattle.es_runs.proofs.Everywhere.{kind_like}
use Rattle.es_statement_runs.specs.Helpers.{entry, silent_names, Supply}
use Rattle.es_statement_runs.specs.Helpers.Supply.{no_helpers, by_global, by_import, by_require, spread_by_global}
use Rattle.es_statement_runs.specs.Scopes.{stack_cell, turns_cell}
use Rattle.es_statement_runs.specs.Names.{top_in, using_in, using_here, names_of_all, own_names, lexical_in}
use Rattle.es_statement_runs.specs.Senses.{Place, Portion, Sense, cores, said_in, said_of}
use Rattle.es_statement_runs.specs.Senses.More.{nothing_more}
use Rattle.es_statement_runs.specs.StatementParts.{begun, case_clause}
use Rattle.es_statement_runs.specs.Kinds.{below as lower, sense, senses, portion, portions, inside, label_in, scope_by, found, kind_in}
use Rattle.es_statement_runs.specs.Alike.{Told, Quiet, StackSeen, SenseLike, SensesLike, PortionLike, PortionsLike, ClauseLike, MoreLike}
use Rattle.es_statement_runs.specs.Alike.MoreLike.{same_clause, same_helper, same_keys, same_nothing}
use Rattle.es_statement_runs.specs.Alike.ClauseLike.{like_when, like_default}
use Rattle.es_statement_runs.specs.Alike.SensesLike.{no_sense, sense_and}
use Rattle.es_statement_runs.specs.Alike.PortionLike.{gap_like, alone_like, rows_like}
use Rattle.es_statement_runs.specs.Alike.PortionsLike.{no_portion, one_portion}
use Rattle.es_statement_runs.specs.Places.{placed_at, all_good, avoids, avoids_trees, bad_anywhere, takes_of, Close, CloseField, CloseFields, CloseTrees, Take, take, value_taken, SupplySeen}
use Rattle.es_statement_runs.specs.Places.Close.{placed, within}
use Rattle.es_statement_runs.specs.Places.CloseFields.{close_done, close_then}
use Rattle.es_statement_runs.specs.Places.CloseField.{close_missing, close_one, close_many, close_statements}
use Rattle.es_statement_runs.specs.Places.CloseTrees.{close_empty, close_before}
use Rattle.es_statement_runs.specs.Runs.{silent_or, program_scope, program_world, world_where, start_cells, RunAlike}
use Rattle.es_statement_runs.specs.BareVars.{BareDeclarators, BareVar, Beside, BesideFields, BesideField, BesideTrees, BesideList, names_around}
use Rattle.es_statement_runs.specs.BareVars.BareDeclarators.{none_bare, one_bare}
use Rattle.es_statement_runs.specs.BareVars.BareVar.{bare_var}
use Rattle.es_statement_runs.specs.BareVars.Beside.{at_place, in_node, in_block, in_case}
use Rattle.es_statement_runs.specs.BareVars.BesideFields.{beside_done, beside_then}
use Rattle.es_statement_runs.specs.BareVars.BesideField.{beside_missing, beside_one, beside_many, beside_statements}
use Rattle.es_statement_runs.specs.BareVars.BesideTrees.{beside_empty, beside_before}
use Rattle.es_statement_runs.specs.BareVars.BesideList.{list_ends, both_have, first_has, second_has}
use Rattle.es_statement_runs.specs.Laws.{among_names, any_cells, is_silent, no_row, LawVars}
use Rattle.es_statement_runs.proofs.Combinators.{scope_alike, stack_alike}
use Rattle.es_statement_runs.proofs.KindsAlike.{inner, inner_same}
use Rattle.es_statement_runs.proofs.SensesAlike.{begun_like, ends_like, only_like, parts_like}
use Rattle.es_statement_runs.proofs.Everywhere.{both_left, both_right, close_self, not_so, visible_good, within_like}
use Rattle.es_statement_runs.proofs.OwnCells.{first_apart}
use Rattle.es_statement_runs.proofs.WithoutAll.{alike_where}
use Rattle.es_statement_runs.proofs.Programs.{unsilent_scope}
use Rattle.es_statement_runs.proofs.TopVars.{temporaries_apart}

-- SUCH A STATEMENT DOES NOTHING

module _ (o : Supply) (w : World) where
  bare_declared : {ds : Trees} → BareDeclarators ds → (ls : List Text) (x : Text) (s : State) → declared false (cores (senses (placed_at o w ls x) ds)) s ≡ gives undefined s
  bare_declared none_bare ls x s = refl
  bare_declared (one_bare h) ls x s = bare_declared h ls x s

  bare_value : {a : Tree} → BareVar a → (ls : List Text) (x : Text) (s : State) → value w (sense (placed_at o w ls x) a).core s ≡ gives undefined s
  bare_value (bare_var e h) ls x s = rw (e, bare_declared h [] (codes "var") s) refl

  bare_begun : {a : Tree} → BareVar a → (ls : List Text) (x : Text) (es : List Sense) (m : M Value) → begun (sense (placed_at o w ls x) a ∷ es) m ≡ begun es m
  bare_begun (bare_var e none_bare) ls x es m = refl
  bare_begun (bare_var e (one_bare h)) ls x es m = refl

-- TREES THAT ARE THE SAME BUT FOR SUCH STATEMENTS

-- what two worlds say of each name
abbrev pub SaidAlike : Frame → Supply → World → World → Type 0
SaidAlike F o w v = (x : Text) → MoreLike F (said_in o (w.scope x)) (said_in o (v.scope x))

-- that a name is bad as a label or a key is asked below a name alone
anywhere_below : (F : Frame) (n : Level) (x : Text) → bad_anywhere F n x ≡ false → bad_names F.hidden F.frozen n x ≡ false
anywhere_below F Level.no_evaluation x h = refl
anywhere_below F _ x h = h

anywhere_seen : (F : Frame) (n : Level) (x : Text) → bad_anywhere F n x ≡ false → F.hidden x ≡ false
anywhere_seen F Level.no_evaluation x h = h
anywhere_seen F a_target x h = at (F.hidden x) (F.frozen x) h
  where
    at : (a b : Bool) → (a || b) ≡ false → a ≡ false
    at true b k = absurd (cc k)
    at false b k = refl
anywhere_seen F _ x h = h

anywhere_told : (F : Frame) (o : Supply) → SupplySeen F o → Told F (bad_anywhere F) o
anywhere_told F no_helpers h = tt
anywhere_told F spread_by_global h = record { helpers = h; names = anywhere_seen F }
anywhere_told F by_global h = record { helpers = h; names = anywhere_seen F }
anywhere_told F (by_import m) h = record { helpers = h; names = anywhere_seen F }
anywhere_told F (by_require m) h = record { helpers = h; names = anywhere_seen F }

module _ (F : Frame) (quiet : Quiet F) (stack : StackSeen F) (bad : Level → Text → Bool) (below : (n : Level) (x : Text) → bad n x ≡ false → bad_names F.hidden F.frozen n x ≡ false) (o : Supply) (seen : SupplySeen F o)
    (Known : List Declared → World → World → Type 0) (says : (ds : List Declared) (w v : World) → SameWorld F.hidden w v → Known ds w v → SaidAlike F o w v) (kept : (ds es : List Declared) → all_good bad (names_of_all es) ≡ true → (w v : World) → Known ds w v → Known (es ++ ds) (inner w es) (inner v es))
    (R : List Declared → Take → Tree → Tree → Type 0) (base : (ds : List Declared) (t : Take) (a b : Tree) → R ds t a b → (w v : World) → SameWorld F.hidden w v → Known ds w v → (ls : List Text) (x : Text) → SenseLike F w v t (sense (placed_at o w ls x) a) (sense (placed_at o v ls x) b)) where
  -- two places where the scopes around declare these names
  pub data Places : List Declared → Place → Place → Type 0 where
    both_at : {ds : List Declared} {w v : World} {ls : List Text} {x : Text} → SameWorld F.hidden w v → Known ds w v → Places ds (placed_at o w ls x) (placed_at o v ls x)

  places_inside : (ds : List Declared) (w v : World) (ls : List Text) (x : Text) → SameWorld F.hidden w v → Known ds w v → (k : AstType) (ts : List (Option Text)) (es : List Declared) (vs : List Text) (i : ℕ) → all_good bad (names_of_all es) ≡ true →
      Places (names_around k es ds i) (inside (placed_at o w ls x) k ts es vs i) (inside (placed_at o v ls x) k ts es vs i)
  places_inside ds w v ls x same e BlockStatement ts es vs i vis = both_at (inner_same F quiet es w v same) (kept ds es vis w v e)
  places_inside ds w v ls x same e ForStatement ts es vs i vis = both_at (inner_same F quiet es w v same) (kept ds es vis w v e)
  places_inside ds w v ls x same e ForInStatement ts es vs i vis = both_at (inner_same F quiet es w v same) (kept ds es vis w v e)
  places_inside ds w v ls x same e ForOfStatement ts es vs i vis = both_at (inner_same F quiet es w v same) (kept ds es vis w v e)
  places_inside ds w v ls x same e CatchClause ts es vs i vis = both_at (inner_same F quiet es w v same) (kept ds es vis w v e)
  places_inside ds w v ls x same e SwitchStatement ts es vs (suc i) vis = both_at (inner_same F quiet es w v same) (kept ds es vis w v e)
  places_inside ds w v ls x same e SwitchStatement ts es vs zero vis = both_at same e
  places_inside ds w v ls x same e LabeledStatement ts es vs i vis = both_at same e
  places_inside ds w v ls x same e VariableDeclaration ts es vs i vis = both_at same e
  places_inside ds w v ls x same e _ ts es vs i vis = both_at same e

  -- the names of scopes
  good_anywhere : (xs : List Text) → all_good bad xs ≡ true → all_good (bad_anywhere F) xs ≡ true
  good_anywhere [] h = refl
  good_anywhere (x ∷ xs) h =
      let i : bad a_target x ≡ false = not_so (bad a_target x) (both_left (not (bad a_target x)) (all_good bad xs) h) in
      let j : (F.hidden x || F.frozen x) ≡ false = below a_target x i in
      rw (j, good_anywhere xs (both_right (not (bad a_target x)) (all_good bad xs) h)) refl

  -- a name, whatever is taken of it
  name_beside : (t : Take) (l m : Label) (fs gs : Fields) (w v : World) → SameWorld F.hidden w v → SaidAlike F o w v → (ls : List Text) (x : Text) → bad t.need.level (first_text l.texts) ≡ false → m.texts ≡ l.texts → m.flags ≡ l.flags →
      PortionsLike F (λ i. (lower [] [] (placed_at o w ls x)).world) (λ i. (lower [] [] (placed_at o v ls x)).world) (takes_of t Identifier l.texts l.flags) (portions (λ i. lower [] [] (placed_at o w ls x)) fs) (portions (λ i. lower [] [] (placed_at o v ls x)) gs) →
      SenseLike F w v t (sense (placed_at o w ls x) (node Identifier l fs)) (sense (placed_at o v ls x) (node Identifier m gs))
  name_beside t l m fs gs w v same said ls x st e1 e2 h = rw e1 (record {
    core = kind_like F w v same t.need Identifier l.texts l.flags (below t.need.level (first_text l.texts) st) (parts_like F quiet w v same (takes_of t Identifier l.texts l.flags) h);
    more = λ _. said (first_text l.texts);
  })

  case_beside : {w v : World} {x y : Portion} → PortionLike F w v value_taken x y → (es ds : List Sense) → Alike F Equal (in_order w (cores es)) (in_order v (cores ds)) → ClauseLike F (case_clause w x es) (case_clause v y ds)
  case_beside gap_like es ds g = like_default g
  case_beside (alone_like h) es ds g = like_when h.core.evaluation g
  case_beside (rows_like h) es ds g = like_default g

  mutual
    pub beside_like : {ds : List Declared} {t : Take} {a b : Tree} → Beside bad R ds t a b → {p q : Place} → Places ds p q → SenseLike F p.world q.world t (sense p a) (sense q b)
    beside_like (at_place {ds = ds} {t = t} {a = a} {b = b} r) (both_at {w = w} {v = v} {ls = ls} {x = x} same e) = base ds t a b r w v same e ls x
    beside_like (in_node {ds = ds} {t = t} {k = Identifier} {l = l} {m = m} {fs = fs} {gs = gs} st e1 e2 e3 e4 e5 vis h) (both_at {w = w} {v = v} {ls = ls} {x = x} same e) =
        name_beside t l m fs gs w v same (says ds w v same e) ls x st e1 e2
        (beside_portions h (λ i. inside (placed_at o w ls x) Identifier l.texts [] [] i) (λ i. inside (placed_at o v ls x) Identifier l.texts [] [] i) (λ i. both_at same e))
    beside_like (in_node {ds = ds} {t = t} {k = k} {l = l} {m = m} {fs = fs} {gs = gs} st e1 e2 e3 e4 e5 vis h) (both_at {w = w} {v = v} {ls = ls} {x = x} same e) =
        within_like F quiet stack (bad_anywhere F) (anywhere_below F) o (anywhere_told F o seen) (λ w v. Unit {0}) (λ es g w v k. tt) (λ t a b. ⊥) (λ t a b i. absurd i) t k l m fs gs w v same ls x refl e1 e2 e3 e4 e5 (good_anywhere (names_of_all (own_names k fs)) vis)
        (beside_portions h (λ i. inside (placed_at o w ls x) k l.texts (own_names k fs) (label_in k fs) i) (λ i. inside (placed_at o v ls x) k l.texts (own_names k fs) (label_in k fs) i)
        (λ i. places_inside ds w v ls x same e k l.texts (own_names k fs) (label_in k fs) i vis))
    beside_like (in_block {ds = ds} {t = t} {ts = ts} names uses vis h) (both_at {w = w} {v = v} same e) =
        rw (names, uses) (ends_like F quiet w v same t (scope_alike F quiet (scope_by (lexical_in ts) (using_in ts)) (λ _. stack) (visible_good F bad below (names_of_all (lexical_in ts)) vis)
        (beside_list h (both_at (inner_same F quiet (lexical_in ts) w v same) (kept ds (lexical_in ts) vis w v e)))))
    beside_like (in_case {t = t} {ts = ts} {us = us} g h) (both_at {w = w} {v = v} same e) = only_like F quiet w v same t (same_clause (case_beside (beside_portion g (both_at same e)) (senses (placed_at o w [] []) ts) (senses (placed_at o v [] []) us) (beside_list h (both_at same e))))

    pub beside_portions : {d : ℕ → List Declared} {g : ℕ → Take} {fs gs : Fields} → BesideFields bad R d g fs gs → (at bt : ℕ → Place) → ((i : ℕ) → Places (d i) (at i) (bt i)) → PortionsLike F (λ i. (at i).world) (λ i. (bt i).world) g (portions at fs) (portions bt gs)
    beside_portions beside_done at bt h = no_portion
    beside_portions (beside_then f fs) at bt h = one_portion (beside_portion f (h zero)) (beside_portions fs (λ i. at (suc i)) (λ i. bt (suc i)) (λ i. h (suc i)))

    pub beside_portion : {ds : List Declared} {t : Take} {f g : Field} → BesideField bad R ds t f g → {p q : Place} → Places ds p q → PortionLike F p.world q.world t (portion p f) (portion q g)
    beside_portion beside_missing h = gap_like
    beside_portion (beside_one g) h = alone_like (beside_like g h)
    beside_portion (beside_many g) h = rows_like (beside_senses g h)
    beside_portion (beside_statements g) h = rows_like (beside_senses g h)

    pub beside_senses : {ds : List Declared} {t : Take} {xs ys : Trees} → BesideTrees bad R ds t xs ys → {p q : Place} → Places ds p q → SensesLike F p.world q.world t (senses p xs) (senses q ys)
    beside_senses beside_empty h = no_sense
    beside_senses (beside_before g gs) h = sense_and (beside_like g h) (beside_senses gs h)

    pub beside_list : {ds : List Declared} {more : Bool} {ts us : Trees} → BesideList bad R ds more ts us → {p q : Place} → Places ds p q → Alike F Equal (in_order p.world (cores (senses p ts))) (in_order q.world (cores (senses q us)))
    beside_list list_ends h = return_alike F undefined
    beside_list (both_have g gs) h = then_alike F (beside_like g h).core.evaluation (λ u. beside_list gs h)
    beside_list (first_has g gs) (both_at {w = w} {ls = ls} {x = x} same e) = λ s t i. rw (bare_value o w g ls x s) (beside_list gs (both_at same e) s t i)
    beside_list (second_has g gs) (both_at {v = v} {ls = ls} {x = x} same e) = λ s t i. rw (bare_value o v g ls x t) (beside_list gs (both_at same e) s t i)

  -- what is asked before the first statement
  pub beside_begun : {ds : List Declared} {ts us : Trees} → BesideList bad R ds true ts us → {w v : World} → SameWorld F.hidden w v → Known ds w v → {m k : M Value} → Alike F Equal m k → Alike F Equal (begun (senses (placed_at o w [] []) ts) m) (begun (senses (placed_at o v [] []) us) k)
  beside_begun list_ends same e i = i
  beside_begun (both_have g gs) {w = w} {v = v} same e i = begun_like F quiet w v same (sense_and (beside_like g (both_at same e)) no_sense) (beside_begun gs same e i)
  beside_begun (first_has {ts = ts} g gs) {w = w} same e {m = m} i = rw (bare_begun o w g [] [] (senses (placed_at o w [] []) ts) m) (beside_begun gs same e i)
  beside_begun (second_has {us = us} g gs) {v = v} same e {k = k} i = rw (bare_begun o v g [] [] (senses (placed_at o v [] []) us) k) (beside_begun gs same e i)

  pub beside_program : (l : Label) (ds : Trees) (es : List Declared) {body after : Trees} → BesideList bad R es true body after → using_in after ≡ using_in body → (w v : World) → SameWorld F.hidden w v → Known es w v →
      Alike F Equal (value w (sense (placed_at o w [] []) (program l ds body)).core) (value v (sense (placed_at o v [] []) (program l ds after)).core)
  beside_program l ds es {body = body} h uses w v same e = rw uses ((ends_like F quiet w v same value_taken (beside_begun h same e (stack_alike F quiet (using_in body) (λ _. stack) (beside_list h (both_at same e))))).core.evaluation)

  -- The general law: what is asked of rows, and of the two programs, in the worlds where `document.all` counts, or where it doesn't and none is met.
  pub beside_run_where : (no_all : Bool) (l : Label) (ds body after : Trees) → BesideList bad R (top_in body) true body after → using_in after ≡ using_in body →
      ((this : Value) → SameWorld F.hidden (world_where (not no_all) o this (program l ds body)) (world_where (not no_all) o this (program l ds after))) → ((this : Value) → Known (top_in body) (world_where (not no_all) o this (program l ds body)) (world_where (not no_all) o this (program l ds after))) →
      ((n : ℕ) (moves : List Move) → Agree F (state (start_cells n (top_in body)) moves []) (state (start_cells n (top_in after)) moves [])) →
      ((x : Text) → is_declared (top_in body) x ≡ true → F.hidden x ≡ false) → RunAlike o no_all (program l ds body) (program l ds after)
  beside_run_where no_all l ds body after h uses same known start counts = alike_where F no_all o (program l ds body) (program l ds after) counts
      (λ n this moves. beside_program l ds (top_in body) h uses (world_where (not no_all) o this (program l ds body)) (world_where (not no_all) o this (program l ds after)) (same this) (known this) _ _ (start n moves))

-- TREES THAT ARE CLOSE, such as a tree that avoids what is bad and itself

module _ (bad : Level → Text → Bool) (R : List Declared → Take → Tree → Tree → Type 0) where
  mutual
    pub close_beside : {ds : List Declared} {t : Take} {a b : Tree} → Close bad no_row t a b → Beside bad R ds t a b
    close_beside (placed r) = absurd r
    close_beside (within st e1 e2 e3 e4 e5 vis h) = in_node st e1 e2 e3 e4 e5 vis (fields_beside h)

    fields_beside : {d : ℕ → List Declared} {c : ℕ → Take} {fs gs : Fields} → CloseFields bad no_row c fs gs → BesideFields bad R d c fs gs
    fields_beside close_done = beside_done
    fields_beside (close_then h hs) = beside_then (field_beside h) (fields_beside hs)

    field_beside : {ds : List Declared} {t : Take} {f g : Field} → CloseField bad no_row t f g → BesideField bad R ds t f g
    field_beside close_missing = beside_missing
    field_beside (close_one h) = beside_one (close_beside h)
    field_beside (close_many h) = beside_many (trees_beside h)
    field_beside (close_statements h) = beside_statements (trees_beside h)

    trees_beside : {ds : List Declared} {t : Take} {xs ys : Trees} → CloseTrees bad no_row t xs ys → BesideTrees bad R ds t xs ys
    trees_beside close_empty = beside_empty
    trees_beside (close_before h hs) = beside_before (close_beside h) (trees_beside hs)

  pub self_beside : (a : Tree) (ds : List Declared) (t : Take) → avoids bad t a ≡ true → Beside bad R ds t a a
  self_beside a ds t h = close_beside (close_self bad no_row a t h)

  pub list_beside : (ds : List Declared) (more : Bool) (ts : Trees) → avoids_trees bad (take the_value more) ts ≡ true → BesideList bad R ds more ts ts
  list_beside ds more empty h = list_ends
  list_beside ds more (a before ts) h = both_have (self_beside a ds (take the_value more) (both_left (avoids bad (take the_value more) a) (avoids_trees bad (take the_value more) ts) h)) (list_beside ds more ts (both_right (avoids bad (take the_value more) a) (avoids_trees bad (take the_value more) ts) h))

-- THE LAW

-- the same statements are by `using`
pub using_as : (k : AstType) (l m : Label) (fs gs : Fields) → m.texts ≡ l.texts → using_here (node k m gs) ≡ using_here (node k l fs)
using_as VariableDeclaration l m fs gs e = rw e refl
using_as _ l m fs gs e = refl

module _ (bad : Level → Text → Bool) where
  using_beside : {ds : List Declared} {t : Take} {a b : Tree} → Beside bad (λ es. no_row) ds t a b → using_here b ≡ using_here a
  using_beside (at_place e) = absurd e
  using_beside (in_node {k = k} {l = l} {m = m} {fs = fs} {gs = gs} st e1 e2 e3 e4 e5 vis h) = using_as k l m fs gs e1
  using_beside (in_block names uses vis h) = refl
  using_beside (in_case g h) = refl

  using_bare : {a : Tree} → BareVar a → using_here a ≡ false
  using_bare (bare_var e h) = rw e refl

  using_list : {ds : List Declared} {more : Bool} {ts us : Trees} → BesideList bad (λ es. no_row) ds more ts us → using_in us ≡ using_in ts
  using_list list_ends = refl
  using_list (both_have g gs) = rw (using_beside g, using_list gs) refl
  using_list (first_has g gs) = rw (using_bare g) (using_list gs)
  using_list (second_has g gs) = rw (using_bare g) (using_list gs)

-- how a name is bound at the top, and its first cell, by the kind of its first declaration
pub top_bound : (ds : List Declared) (y : Text) → scope_of ds y ≡ found (kind_in ds y) y (λ z. free) y
top_bound [] y = refl
top_bound (d ∷ ds) y = at (bytes_eq y d.name) (top_bound ds y)
  where
    at : (b : Bool) → scope_of ds y ≡ found (kind_in ds y) y (λ z. free) y → (if b then binding_of d.kind else scope_of ds y) ≡ found (if b then Some d.kind else kind_in ds y) y (λ z. free) y
    at true h = refl
    at false h = h

abbrev pub cell_by : Option Text → Cell
cell_by None = unset
cell_by (Some kind) = first_cell kind

pub top_cell : (ds : List Declared) (y : Text) → cells_of ds y ≡ cell_by (kind_in ds y)
top_cell [] y = refl
top_cell (d ∷ ds) y = at (bytes_eq y d.name) (top_cell ds y)
  where
    at : (b : Bool) → cells_of ds y ≡ cell_by (kind_in ds y) → (if b then first_cell d.kind else cells_of ds y) ≡ cell_by (if b then Some d.kind else kind_in ds y)
    at true h = refl
    at false h = h

-- NAMES THAT STAND FOR NOTHING: what a hidden name says is nothing, in both worlds

kind_says : (kind : Text) → said_of (binding_of kind) ≡ nothing_more
kind_says kind = at (bytes_eq kind (codes "const"))
  where
    at : (b : Bool) → said_of (if b then constant else changeable) ≡ nothing_more
    at true = refl
    at false = refl

abbrev pub Unsaid : (Text → Bool) → World → World → Type 0
Unsaid hidden w v = (x : Text) → hidden x ≡ true → (said_of (w.scope x) ≡ nothing_more) × (said_of (v.scope x) ≡ nothing_more)

found_says : (c : Option Text) (x : Text) (scope : Text → Binding) → said_of (scope x) ≡ nothing_more → said_of (found c x scope x) ≡ nothing_more
found_says None x scope h = h
found_says (Some kind) x scope h = kind_says kind

pub unsaid_inside : (hidden : Text → Bool) (es : List Declared) (w v : World) → Unsaid hidden w v → Unsaid hidden (inner w es) (inner v es)
unsaid_inside hidden es w v h x e = let k = h x e in (found_says (kind_in es x) x w.scope k.0, found_says (kind_in es x) x v.scope k.1)

self_said : (F : Frame) (b : Binding) → MoreLike F (said_of b) (said_of b)
self_said F free = same_nothing
self_said F changeable = same_nothing
self_said F constant = same_nothing
self_said F (silent (helper_name h)) = same_helper
self_said F (silent (keys_name us)) = same_keys (return_alike F us)

said_by : (F : Frame) (w v : World) → SameWorld F.hidden w v → Unsaid F.hidden w v → (x : Text) (b : Bool) → F.hidden x ≡ b → MoreLike F (said_of (w.scope x)) (said_of (v.scope x))
said_by F w v same h x false e = rw (same.scope x e) (self_said F (w.scope x))
said_by F w v same h x true e = let k = h x e in rw (k.0, k.1) same_nothing

pub said_alike_from : (F : Frame) (o : Supply) (w v : World) → SameWorld F.hidden w v → Unsaid F.hidden w v → SaidAlike F o w v
said_alike_from F no_helpers w v same h x = same_nothing
said_alike_from F spread_by_global w v same h x = same_nothing
said_alike_from F by_global w v same h x = said_by F w v same h x (F.hidden x) refl
said_alike_from F (by_import m) w v same h x = said_by F w v same h x (F.hidden x) refl
said_alike_from F (by_require m) w v same h x = said_by F w v same h x (F.hidden x) refl

-- a name of the top that stands for nothing
top_says : (ds : List Declared) (x : Text) → said_of (scope_of ds x) ≡ nothing_more
top_says ds x = rw (top_bound ds x) (found_says (kind_in ds x) x (λ z. free) refl)

pub unsaid_top : (u : Supply) (p : Tree) (x : Text) → is_silent (silent_names u p) x ≡ false → said_of (program_scope u p x) ≡ nothing_more
unsaid_top u p x h = ap said_of (unsilent_scope u p x h) ∙ top_says (declared_at_top p) x

module _ (hidden : Text → Bool) where
  module _ (ds es : List Declared) (tops : (y : Text) → hidden y ≡ false → kind_in es y ≡ kind_in ds y) where
    bound_same : (y : Text) → hidden y ≡ false → scope_of es y ≡ scope_of ds y
    bound_same y h = rw (top_bound es y, top_bound ds y, tops y h) refl

    cell_same : (y : Text) → hidden y ≡ false → cells_of es y ≡ cells_of ds y
    cell_same y h = rw (top_cell es y, top_cell ds y, tops y h) refl

    pub start_same : (n : ℕ) (moves : List Move) → Agree (any_cells hidden) (state (start_cells n ds) moves []) (state (start_cells n es) moves [])
    start_same n moves = agree (λ y h. ap (λ (c : Cell). if bytes_eq y turns_cell then holds (own (count n)) else c) (cell_same y h)) (λ y h. tt) (λ y h. tt)

  pub top_worlds : (counts : Bool) (u : Supply) (l : Label) (ds body after : Trees) → ((y : Text) → hidden y ≡ false → kind_in (top_in after) y ≡ kind_in (top_in body) y) → silent_names u (program l ds after) ≡ silent_names u (program l ds body) → (this : Value) →
      SameWorld hidden (world_where counts u this (program l ds body)) (world_where counts u this (program l ds after))
  top_worlds counts u l ds body after tops silents this = record {
    scope = λ y h. ap (λ (es : List (Text × Silent)). silent_or (entry es y) (scope_of (top_in after) y)) silents ∙ ap (λ (b : Binding). silent_or (entry (silent_names u (program l ds body)) y) b) (bound_same (top_in body) (top_in after) tops y h);
    this = refl;
    counts = refl;
  }

pub unsaid_programs : (u : Supply) (xs : List Text) (p q : Tree) → silent_names u q ≡ silent_names u p → ((y : Text) → among_names xs y ≡ true → is_silent (silent_names u p) y ≡ false) → (this : Value) → Unsaid (among_names xs) (program_world u this p) (program_world u this q)
unsaid_programs u xs p q silents unsilent this x e = (unsaid_top u p x (unsilent x e), unsaid_top u q x (ap (λ es. is_silent es x) silents ∙ unsilent x e))

pub law_vars_proof : LawVars
law_vars_proof u xs l ds body after rows tops apart silents unsilent math program_names seen =
    let hidden : Text → Bool = among_names xs in
    let F : Frame = any_cells hidden in
    let bad : Level → Text → Bool = bad_names hidden none_hidden in
    let quiet : Quiet F = record { own_seen = λ y e i. record { hidden = temporaries_apart xs program_names y e; frozen = refl; loose = refl }; math = math } in
    let stack : StackSeen F = record { hidden = temporaries_apart xs program_names stack_cell refl; frozen = refl; loose = refl } in
    beside_run_where F quiet stack bad (λ n x h. h) u seen (λ es w v. Unsaid hidden w v) (λ es w v same h. said_alike_from F u w v same h) (λ ds es vis w v h. unsaid_inside hidden es w v h) (λ es. no_row) (λ es t a b i. absurd i) false l ds body after rows (using_list bad rows)
    (top_worlds hidden true u l ds body after tops silents) (unsaid_programs u xs (program l ds body) (program l ds after) silents unsilent) (start_same hidden (top_in body) (top_in after) tops) apart

-- WHERE THE TOP DECLARES SOME OF THESE NAMES MORE, in whatever order, what the law asks of the tops holds

pub data MoreDeclared (word : Text) (xs : List Text) : List Declared → List Declared → Type 0 where
  none_declared : MoreDeclared word xs [] []
  as_before : {d : Declared} {ds es : List Declared} → MoreDeclared word xs ds es → MoreDeclared word xs (d ∷ ds) (d ∷ es)
  declared_more : {d : Declared} {ds es : List Declared} → among_names xs d.name ≡ true → d.kind ≡ word → MoreDeclared word xs ds es → MoreDeclared word xs ds (d ∷ es)

module _ (word : Text) (xs : List Text) where
  pub kinds_kept : {ds es : List Declared} → MoreDeclared word xs ds es → (y : Text) → among_names xs y ≡ false → kind_in es y ≡ kind_in ds y
  kinds_kept none_declared y e = refl
  kinds_kept (as_before {d = d} g) y e = ap (λ (c : Option Text). if bytes_eq y d.name then Some d.kind else c) (kinds_kept g y e)
  kinds_kept (declared_more {d = d} {ds = ds} {es = es} h w g) y e = at (bytes_eq y d.name) refl (kinds_kept g y e)
    where
      at : (b : Bool) → bytes_eq y d.name ≡ b → kind_in es y ≡ kind_in ds y → (if b then Some d.kind else kind_in es y) ≡ kind_in ds y
      at true i k = let j : y ≡ d.name = (bytes_eq-Decides y d.name).0 i in let m : among_names xs y ≡ among_names xs d.name = ap (among_names xs) j in absurd (cc)
      at false i k = k

  -- and one of them that it declares now is declared by that word
  pub kinds_made : {ds es : List Declared} → MoreDeclared word xs ds es → (y : Text) → kind_in ds y ≡ None → (kind_in es y ≡ None) ⊎ (kind_in es y ≡ Some word)
  kinds_made none_declared y e = inl refl
  kinds_made (as_before {d = d} {ds = ds} {es = es} g) y e = at (bytes_eq y d.name) e (kinds_made g y)
    where
      at : (b : Bool) → (if b then Some d.kind else kind_in ds y) ≡ None → (kind_in ds y ≡ None → (kind_in es y ≡ None) ⊎ (kind_in es y ≡ Some word)) → ((if b then Some d.kind else kind_in es y) ≡ None) ⊎ ((if b then Some d.kind else kind_in es y) ≡ Some word)
      at true h k = absurd (cc h)
      at false h k = k h
  kinds_made (declared_more {d = d} {ds = ds} {es = es} h w g) y e = at (bytes_eq y d.name) (kinds_made g y e)
    where
      at : (b : Bool) → (kind_in es y ≡ None) ⊎ (kind_in es y ≡ Some word) → ((if b then Some d.kind else kind_in es y) ≡ None) ⊎ ((if b then Some d.kind else kind_in es y) ≡ Some word)
      at true k = inr (ap Some w)
      at false k = k

-- none of these names is among the declared ones
abbrev pub all_apart : List Text → List Declared → Bool
all_apart xs [] = true
all_apart xs (d ∷ ds) = not (among_names xs d.name) && all_apart xs ds

pub declared_apart : (xs : List Text) (ds : List Declared) → all_apart xs ds ≡ true → (y : Text) → is_declared ds y ≡ true → among_names xs y ≡ false
declared_apart xs [] h y e = absurd (cc e)
declared_apart xs (d ∷ ds) h y e = let k = first_apart (among_names xs d.name) (all_apart xs ds) h in at k.0 (bytes_eq y d.name) refl (declared_apart xs ds k.1 y) e
  where
    at : among_names xs d.name ≡ false → (b : Bool) → bytes_eq y d.name ≡ b → (is_declared ds y ≡ true → among_names xs y ≡ false) → not (is_free (if b then binding_of d.kind else scope_of ds y)) ≡ true → among_names xs y ≡ false
    at h true i k m = let j : y ≡ d.name = (bytes_eq-Decides y d.name).0 i in ap (among_names xs) j ∙ h
    at h false i k m = k m
