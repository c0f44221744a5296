-- Rows that ask which names are bound are alike below the scopes that declare them.
use Rattle.std.proofs.Common.{◌≡◌, ℕ, List, ◌++◌, refl, suc, []}
use Rattle.std.proofs.lemmas.Bool.{false≢true}
use Rattle.std.specs.Prelude.{Bool, true, false, Option}
use Rattle.es_statement_runs.specs.Alike.PortionsLike.{one_portion}
use Rattle.es_tree.specs.Words.{Text}
use Rattle.es_tree.specs.Scopes.{Declared}
use Rattle.es_tree.specs.Tree.{Tree, ◌then◌}
use Rattle.es_tree.specs.declared.ast_type.AstType.{AstType}
use Rattle.es_tree.specs.declared.ast_type.AstType.TheVariants.{BlockStatement, ForStatement, ForInStatement, ForOfStatement, CatchClause, SwitchStatement}
use Rattle.es_runs.specs.Core.{World}
use Rattle.es_runs.specs.Alike.{Frame, SameWorld, Level, bad_names}
use Rattle.es_statement_runs.specs.Alike.{Told, Quiet, StackSeen, SenseLike}
use Rattle.es_statement_runs.specs.Helpers.{Supply}
use Rattle.es_statement_runs.specs.Names.{own_names, names_of_all}
use Rattle.es_statement_runs.specs.Kinds.{sense, inside, label_in}
use Rattle.es_statement_runs.specs.Places.{InScope, Take, all_good, owns_scope, placed_at}
use Rattle.es_statement_runs.specs.Places.InScope.{at_once, below_scope, below_switch}
use Rattle.es_statement_runs.proofs.Everywhere.{PlaceLike, close_portions, within_like, close_portion}
use Rattle.es_statement_runs.proofs.Everywhere.PlaceLike.{place_like}
use Rattle.es_statement_runs.proofs.KindsAlike.{inner_same, inner}

module _ (F : Frame) (quiet : Quiet F) (stack : StackSeen F) (bad : Level → Text → Bool) (below : (n : Level) (x : Text) → bad n x ≡ false → bad_names F.hidden F.frozen n x ≡ false) (o : Supply) (told : Told F bad o)
    (Known : List Declared → World → World → Type 0) (kept : (es ds : List Declared) → all_good bad (names_of_all ds) ≡ true → (w v : World) → Known es w v → Known es (inner w ds) (inner v ds))
    (enters : (es ds : List Declared) → all_good bad (names_of_all es) ≡ true → (w v : World) → Known ds w v → Known (es ++ ds) (inner w es) (inner v es)) where
  inside_scope : (ds : List Declared) (w v : World) (ls : List Text) (x : Text) → SameWorld F.hidden w v → Known ds w v → (k : AstType) → owns_scope k ≡ true → (ts : List (Option Text)) (es : List Declared) (vs : List Text) (i : ℕ) → all_good bad (names_of_all es) ≡ true →
      PlaceLike F quiet stack bad below o told (Known (es ++ ds)) (kept (es ++ ds)) (inside (placed_at o w ls x) k ts es vs i) (inside (placed_at o v ls x) k ts es vs i)
  inside_scope ds w v ls x same h BlockStatement g ts es vs i good = place_like (inner_same F quiet es w v same) (enters es ds good w v h)
  inside_scope ds w v ls x same h ForStatement g ts es vs i good = place_like (inner_same F quiet es w v same) (enters es ds good w v h)
  inside_scope ds w v ls x same h ForInStatement g ts es vs i good = place_like (inner_same F quiet es w v same) (enters es ds good w v h)
  inside_scope ds w v ls x same h ForOfStatement g ts es vs i good = place_like (inner_same F quiet es w v same) (enters es ds good w v h)
  inside_scope ds w v ls x same h CatchClause g ts es vs i good = place_like (inner_same F quiet es w v same) (enters es ds good w v h)
  inside_scope ds w v ls x same h _ g ts es vs i good = absurd (false≢true g)

  pub scoped_like : (R : List Declared → Take → Tree → Tree → Type 0) → ((ds : List Declared) (t : Take) (a b : Tree) → R ds t a b → (w v : World) → SameWorld F.hidden w v → Known ds w v → (ls : List Text) (x : Text) → SenseLike F w v t (sense (placed_at o w ls x) a) (sense (placed_at o v ls x) b)) →
      (ds : List Declared) (t : Take) (a b : Tree) → InScope bad R ds t a b → (w v : World) → SameWorld F.hidden w v → Known ds w v → (ls : List Text) (x : Text) → SenseLike F w v t (sense (placed_at o w ls x) a) (sense (placed_at o v ls x) b)
  scoped_like R base ds t a b (at_once h) w v same k ls x = base ds t a b h w v same k ls x
  scoped_like R base ds t _ _ (below_scope {k = k} {l = l} {m = m} {fs = fs} {gs = gs} owns st e1 e2 e3 e4 e5 good h) w v same known ls x =
      let es = own_names k fs in
      within_like F quiet stack bad below o told (Known (es ++ ds)) (kept (es ++ ds)) (R (es ++ ds)) (base (es ++ ds)) t k l m fs gs w v same ls x st e1 e2 e3 e4 e5 good
      (close_portions F quiet stack bad below o told (Known (es ++ ds)) (kept (es ++ ds)) (R (es ++ ds)) (base (es ++ ds)) h (inside (placed_at o w ls x) k l.texts es (label_in k fs)) (inside (placed_at o v ls x) k l.texts es (label_in k fs))
      (λ i. inside_scope ds w v ls x same known k owns l.texts es (label_in k fs) i good))
  scoped_like R base ds t _ _ (below_switch {l = l} {m = m} {f = f} {g = g} {fs = fs} {gs = gs} e1 e2 e3 e4 good h hs) w v same known ls x =
      let es = own_names SwitchStatement (f then fs) in
      within_like F quiet stack bad below o told (Known (es ++ ds)) (kept (es ++ ds)) (R (es ++ ds)) (base (es ++ ds)) t SwitchStatement l m (f then fs) (g then gs) w v same ls x refl e1 e2 e3 e4 refl good
      (one_portion (close_portion F quiet stack bad below o told (Known ds) (kept ds) (R ds) (base ds) h (place_like same known))
      (close_portions F quiet stack bad below o told (Known (es ++ ds)) (kept (es ++ ds)) (R (es ++ ds)) (base (es ++ ds)) hs (λ i. inside (placed_at o w ls x) SwitchStatement l.texts es [] (suc i)) (λ i. inside (placed_at o v ls x) SwitchStatement l.texts es [] (suc i))
      (λ i. place_like (inner_same F quiet es w v same) (enters es ds good w v known))))
