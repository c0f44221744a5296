-- Trees that are the same but for scopes that declare hidden names more, and but for some places, are alike; and so are programs.
use Rattle.std.proofs.Common.{◌≡◌, refl, List, [], ◌∷◌, ◌++◌}
use Rattle.std.specs.Prelude.{ℕ, zero, suc, Bool, true, false, not, ◌||◌, Option}
use Rattle.es_tree.specs.Words.{Text}
use Rattle.es_tree.specs.Names.{first_text}
use Rattle.es_tree.specs.Scopes.{Declared}
use Rattle.es_tree.specs.Tree.{Tree, node, Label, Fields, Field, Trees}
use Rattle.es_tree.specs.declared.ast_type.AstType.{AstType}
use Rattle.es_tree.specs.declared.ast_type.AstType.TheVariants.{BlockStatement, CatchClause, ForInStatement, ForOfStatement, ForStatement, Identifier, LabeledStatement, SwitchStatement, VariableDeclaration}
use Rattle.es_runs.specs.Machine.{Value}
use Rattle.es_runs.specs.Machine.Value.{undefined}
use Rattle.es_runs.specs.Core.{World, value}
use Rattle.es_runs.specs.Alike.{Frame, Alike, Equal, SameWorld, Level, bad_names}
use Rattle.es_runs.specs.Alike.Level.{a_target}
use Rattle.es_runs.specs.Runs.{program, is_declared}
use Rattle.es_runs.proofs.Basic.{then_alike}
use Rattle.es_runs.proofs.Everywhere.{kind_like}
use Rattle.es_statement_runs.specs.Alike.{StackSeen, Quiet, SenseLike, SensesLike, PortionLike, PortionsLike}
use Rattle.es_statement_runs.specs.Alike.SensesLike.{no_sense, sense_and}
use Rattle.es_statement_runs.specs.Alike.PortionLike.{gap_like, alone_like, rows_like}
use Rattle.es_statement_runs.specs.Alike.PortionsLike.{no_portion, one_portion}
use Rattle.es_statement_runs.specs.BareVars.{names_around}
use Rattle.es_statement_runs.specs.Helpers.{Supply}
use Rattle.es_statement_runs.specs.Kinds.{below as lower, from_portions, sense, senses, portion, portions, inside, label_in}
use Rattle.es_statement_runs.specs.Laws.{any_cells, body_needs, no_row}
use Rattle.es_statement_runs.specs.Names.{cases_names, cases_use, lexical_in, lexical_names, names_of_all, own_names, top_in, using_here, using_in}
use Rattle.es_statement_runs.specs.Places.{SupplySeen, Take, all_good, bad_anywhere, placed_at, takes_of, value_taken}
use Rattle.es_statement_runs.specs.Runs.{RunAlike, world_where}
use Rattle.es_statement_runs.specs.Senses.{Place, Portion}
use Rattle.es_statement_runs.proofs.BareVars.{SaidAlike, start_same}
use Rattle.es_statement_runs.proofs.Combinators.{looped_alike, stack_alike, switched_alike}
use Rattle.es_statement_runs.proofs.Everywhere.{both_left, both_right, not_so, within_like}
use Rattle.es_statement_runs.proofs.KindsAlike.{inner, inner_same, nothing_sense}
use Rattle.es_statement_runs.proofs.SensesAlike.{begun_like, bodies_like, clauses_like, ends_like, parts_like, test_like, value_or_like}
use Rattle.es_statement_runs.proofs.WithoutAll.{alike_where}
use Rattle.es_statement_runs.proofs.Catches.{all_told, below_anywhere}
use Rattle.es_split_runs.specs.Growing.{Grown, GrownField, GrownFields, GrownTrees, NamesMore}
use Rattle.es_split_runs.specs.Growing.Grown.{at_place, in_block, in_for, in_node, in_switch}
use Rattle.es_split_runs.specs.Growing.GrownField.{grown_many, grown_missing, grown_one, grown_statements}
use Rattle.es_split_runs.specs.Growing.GrownFields.{grown_done, grown_then}
use Rattle.es_split_runs.specs.Growing.GrownTrees.{grown_before, grown_empty}
use Rattle.es_split_runs.proofs.GrownScopes.{inner_more, kinds_more, same_names, scope_more}

module _ (hidden : Text → Bool) (quiet : Quiet (any_cells hidden)) (stack : StackSeen (any_cells hidden)) (bad : Level → Text → Bool) (below : (n : Level) (x : Text) → bad n x ≡ false → bad_names hidden (λ y. false) n x ≡ false) (o : Supply) (seen : SupplySeen (any_cells hidden) o)
    (Known : List Declared → World → World → Type 0) (says : (ds : List Declared) (w v : World) → SameWorld hidden w v → Known ds w v → SaidAlike (any_cells hidden) o w v)
    (kept : (ds es fs : List Declared) → NamesMore hidden es fs → all_good bad (names_of_all es) ≡ true → (w v : World) → Known ds w v → Known (fs ++ ds) (inner w es) (inner v fs))
    (R : List Declared → Take → Tree → Tree → Type 0) (base : (ds : List Declared) (t : Take) (a b : Tree) → R ds t a b → (w v : World) → SameWorld hidden w v → Known ds w v → (ls : List Text) (x : Text) → SenseLike (any_cells hidden) w v t (sense (placed_at o w ls x) a) (sense (placed_at o v ls x) b)) where
  abbrev F : Frame
  F = any_cells hidden

  -- two places where the second one's scopes around declare these names
  data Places : List Declared → Place → Place → Type 0 where
    both_at : {ds : List Declared} {w v : World} {ls : List Text} {x : Text} → SameWorld hidden w v → Known ds w v → Places ds (placed_at o w ls x) (placed_at o v ls x)

  places_inside : (ds : List Declared) (w v : World) (ls : List Text) (x : Text) → SameWorld hidden w v → Known ds w v → (k : AstType) (ts : List (Option Text)) (es : List Declared) (vs : List Text) (i : ℕ) → all_good bad (names_of_all es) ≡ true →
      Places (names_around k es ds i) (inside (placed_at o w ls x) k ts es vs i) (inside (placed_at o v ls x) k ts es vs i)
  places_inside ds w v ls x same e BlockStatement ts es vs i vis = both_at (inner_same F quiet es w v same) (kept ds es es (same_names hidden es) vis w v e)
  places_inside ds w v ls x same e ForStatement ts es vs i vis = both_at (inner_same F quiet es w v same) (kept ds es es (same_names hidden es) vis w v e)
  places_inside ds w v ls x same e ForInStatement ts es vs i vis = both_at (inner_same F quiet es w v same) (kept ds es es (same_names hidden es) vis w v e)
  places_inside ds w v ls x same e ForOfStatement ts es vs i vis = both_at (inner_same F quiet es w v same) (kept ds es es (same_names hidden es) vis w v e)
  places_inside ds w v ls x same e CatchClause ts es vs i vis = both_at (inner_same F quiet es w v same) (kept ds es es (same_names hidden es) vis w v e)
  places_inside ds w v ls x same e SwitchStatement ts es vs (suc i) vis = both_at (inner_same F quiet es w v same) (kept ds es es (same_names hidden es) vis w v e)
  places_inside ds w v ls x same e SwitchStatement ts es vs zero vis = both_at same e
  places_inside ds w v ls x same e LabeledStatement ts es vs i vis = both_at same e
  places_inside ds w v ls x same e VariableDeclaration ts es vs i vis = both_at same e
  places_inside ds w v ls x same e _ ts es vs i vis = both_at same e

  good_anywhere : (xs : List Text) → all_good bad xs ≡ true → all_good (bad_anywhere F) xs ≡ true
  good_anywhere [] h = refl
  good_anywhere (x ∷ xs) h =
      let i : bad a_target x ≡ false = not_so (bad a_target x) (both_left (not (bad a_target x)) (all_good bad xs) h) in
      let j : (hidden x || false) ≡ false = below a_target x i in
      rw (j, good_anywhere xs (both_right (not (bad a_target x)) (all_good bad xs) h)) refl

  -- a name, whatever is taken of it
  name_grown : (t : Take) (l m : Label) (fs gs : Fields) (w v : World) → SameWorld hidden w v → SaidAlike F o w v → (ls : List Text) (x : Text) → bad t.need.level (first_text l.texts) ≡ false → m.texts ≡ l.texts → m.flags ≡ l.flags →
      PortionsLike F (λ i. (lower [] [] (placed_at o w ls x)).world) (λ i. (lower [] [] (placed_at o v ls x)).world) (takes_of t Identifier l.texts l.flags) (portions (λ i. lower [] [] (placed_at o w ls x)) fs) (portions (λ i. lower [] [] (placed_at o v ls x)) gs) →
      SenseLike F w v t (sense (placed_at o w ls x) (node Identifier l fs)) (sense (placed_at o v ls x) (node Identifier m gs))
  name_grown t l m fs gs w v same said ls x st e1 e2 h = rw e1 (record {
    core = kind_like F w v same t.need Identifier l.texts l.flags (below t.need.level (first_text l.texts) st) (parts_like F quiet w v same (takes_of t Identifier l.texts l.flags) h);
    more = λ _. said (first_text l.texts);
  })

  -- a loop by `for`, whatever its body's field is
  for_like : (t : Take) (w v : World) → SameWorld hidden w v → (ls : List Text) (x : Text) → {ds es : List Declared} → NamesMore hidden ds es → (uses later : Bool) → later ≡ uses → (ts us : List (Option Text)) (fs gs : List Bool) → SameWorld hidden (inner w ds) (inner v es) → {ps qs : List Portion} →
      PortionsLike F (λ i. inner w ds) (λ i. inner v es) (λ i. value_taken) ps qs →
      SenseLike F w v t (from_portions (placed_at o w ls x) ForStatement ts fs ds uses [] ps) (from_portions (placed_at o v ls x) ForStatement us gs es later [] qs)
  for_like t w v same ls x {ds} {es} names uses later e ts us fs gs i (one_portion a (one_portion b (one_portion c (one_portion (alone_like h) no_portion)))) =
      rw e (ends_like F quiet w v same t (scope_more hidden quiet stack uses names (then_alike F (value_or_like F quiet (inner w ds) (inner v es) i a undefined)
      (λ u. looped_alike F quiet ls (test_like F quiet (inner w ds) (inner v es) i b) h.core.evaluation (value_or_like F quiet (inner w ds) (inner v es) i c undefined)))))
  for_like t w v same ls x names uses later e ts us fs gs i _ = nothing_sense F quiet t w v same

  mutual
    grown_like : {ds : List Declared} {t : Take} {a b : Tree} → Grown bad hidden R ds t a b → {p q : Place} → Places ds p q → SenseLike F p.world q.world t (sense p a) (sense q b)
    grown_like (at_place {ds = ds} {t = t} {a = a} {b = b} r) (both_at {w = w} {v = v} {ls = ls} {x = x} same e) = base ds t a b r w v same e ls x
    grown_like (in_node {ds = ds} {t = t} {k = Identifier} {l = l} {m = m} {fs = fs} {gs = gs} st e1 e2 e3 e4 e5 vis h) (both_at {w = w} {v = v} {ls = ls} {x = x} same e) =
        name_grown t l m fs gs w v same (says ds w v same e) ls x st e1 e2
        (grown_portions h (λ i. inside (placed_at o w ls x) Identifier l.texts [] [] i) (λ i. inside (placed_at o v ls x) Identifier l.texts [] [] i) (λ i. both_at same e))
    grown_like (in_node {ds = ds} {t = t} {k = k} {l = l} {m = m} {fs = fs} {gs = gs} st e1 e2 e3 e4 e5 vis h) (both_at {w = w} {v = v} {ls = ls} {x = x} same e) =
        within_like F quiet stack (bad_anywhere F) (below_anywhere hidden) o (all_told hidden F (λ y. refl) o seen) (λ w v. Unit {0}) (λ es g w v k. tt) no_row (λ t a b i. absurd i) t k l m fs gs w v same ls x refl e1 e2 e3 e4 e5 (good_anywhere (names_of_all (own_names k fs)) vis)
        (grown_portions h (λ i. inside (placed_at o w ls x) k l.texts (own_names k fs) (label_in k fs) i) (λ i. inside (placed_at o v ls x) k l.texts (own_names k fs) (label_in k fs) i)
        (λ i. places_inside ds w v ls x same e k l.texts (own_names k fs) (label_in k fs) i vis))
    grown_like (in_block {ds = ds} {t = t} {ts = ts} {us = us} names uses vis h) (both_at {w = w} {v = v} same e) =
        rw uses (ends_like F quiet w v same t (scope_more hidden quiet stack (using_in ts) names (bodies_like F quiet (inner w (lexical_in ts)) (inner v (lexical_in us)) (inner_more hidden names w v same) refl
        (grown_senses h (both_at (inner_more hidden names w v same) (kept ds _ _ names vis w v e))))))
    grown_like (in_for {ds = ds} {t = t} {l = l} {m = m} {a = a} {b = b} names uses vis h) (both_at {w = w} {v = v} {ls = ls} {x = x} same e) =
        let i = inner_more hidden names w v same in
        for_like t w v same ls x names (using_here a) (using_here b) uses l.texts m.texts l.flags m.flags i (grown_portions h (λ j. placed_at o (inner w (lexical_names a)) [] []) (λ j. placed_at o (inner v (lexical_names b)) [] []) (λ j. both_at i (kept ds _ _ names vis w v e)))
    grown_like (in_switch {ds = ds} {t = t} {cs = cs} {es = es} names uses vis g h) (both_at {w = w} {v = v} same e) =
        let i = inner_more hidden names w v same in
        rw uses (ends_like F quiet w v same t (then_alike F (grown_like g (both_at same e)).core.evaluation (λ u. scope_more hidden quiet stack (cases_use cs) names
        (switched_alike F u (clauses_like F quiet (inner w (cases_names cs)) (inner v (cases_names es)) i (grown_senses h (both_at i (kept ds _ _ names vis w v e))))))))

    grown_portions : {d : ℕ → List Declared} {g : ℕ → Take} {fs gs : Fields} → GrownFields bad hidden R d g fs gs → (at bt : ℕ → Place) → ((i : ℕ) → Places (d i) (at i) (bt i)) → PortionsLike F (λ i. (at i).world) (λ i. (bt i).world) g (portions at fs) (portions bt gs)
    grown_portions grown_done at bt h = no_portion
    grown_portions (grown_then f fs) at bt h = one_portion (grown_portion f (h zero)) (grown_portions fs (λ i. at (suc i)) (λ i. bt (suc i)) (λ i. h (suc i)))

    grown_portion : {ds : List Declared} {t : Take} {f g : Field} → GrownField bad hidden R ds t f g → {p q : Place} → Places ds p q → PortionLike F p.world q.world t (portion p f) (portion q g)
    grown_portion grown_missing h = gap_like
    grown_portion (grown_one g) h = alone_like (grown_like g h)
    grown_portion (grown_many g) h = rows_like (grown_senses g h)
    grown_portion (grown_statements g) h = rows_like (grown_senses g h)

    grown_senses : {ds : List Declared} {t : Take} {ts us : Trees} → GrownTrees bad hidden R ds t ts us → {p q : Place} → Places ds p q → SensesLike F p.world q.world t (senses p ts) (senses q us)
    grown_senses grown_empty h = no_sense
    grown_senses (grown_before g gs) h = sense_and (grown_like g h) (grown_senses gs h)

  grown_program : (l : Label) (ds : Trees) (es : List Declared) {body after : Trees} → GrownTrees bad hidden R es body_needs body after → using_in after ≡ using_in body → (w v : World) → SameWorld hidden w v → Known es w v →
      Alike F Equal (value w (sense (placed_at o w [] []) (program l ds body)).core) (value v (sense (placed_at o v [] []) (program l ds after)).core)
  grown_program l ds es {body = body} h uses w v same e =
      let g = grown_senses h (both_at {ls = []} {x = []} same e) in
      rw uses ((ends_like F quiet w v same value_taken (begun_like F quiet w v same g (stack_alike F quiet (using_in body) (λ _. stack) (bodies_like F quiet w v same refl g)))).core.evaluation)

  -- The general law: what is asked of rows, and of the two programs.
  pub grown_run : (l : Label) (ds body after : Trees) → GrownTrees bad hidden R (top_in after) body_needs body after → NamesMore hidden (top_in body) (top_in after) → using_in after ≡ using_in body →
      ((this : Value) → SameWorld hidden (world_where true o this (program l ds body)) (world_where true o this (program l ds after))) → ((this : Value) → Known (top_in after) (world_where true o this (program l ds body)) (world_where true o this (program l ds after))) →
      ((x : Text) → is_declared (top_in body) x ≡ true → hidden x ≡ false) → RunAlike o false (program l ds body) (program l ds after)
  grown_run l ds body after h tops uses same known counts = alike_where F false o (program l ds body) (program l ds after) counts
      (λ n this moves. grown_program l ds (top_in after) h uses (world_where true o this (program l ds body)) (world_where true o this (program l ds after)) (same this) (known this) _ _ (start_same hidden (top_in body) (top_in after) (kinds_more hidden tops) n moves))
