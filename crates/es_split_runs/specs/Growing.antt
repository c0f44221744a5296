-- Scopes that declare fresh names more, and trees that are the same but for these and but for some places.
use Rattle.std.specs.Prelude.{◌≡◌, ℕ, zero, suc, Bool, true, false, List, [], ◌∷◌, ◌++◌}
use Rattle.es_tree.specs.Words.{Text}
use Rattle.es_tree.specs.Scopes.{Declared}
use Rattle.es_tree.specs.Tree.{Tree, node, Label, Fields, done, ◌then◌, Field, missing, one, many, statements, Trees, empty, ◌before◌}
use Rattle.es_tree.specs.declared.ast_type.AstType.{AstType}
use Rattle.es_tree.specs.declared.ast_type.AstType.TheVariants.{BlockStatement, ForStatement, SwitchStatement}
use Rattle.es_runs.specs.Alike.{Level, is_bad}
use Rattle.es_statement_runs.specs.BareVars.{names_around}
use Rattle.es_statement_runs.specs.Kinds.{label_in}
use Rattle.es_statement_runs.specs.Names.{cases_names, cases_use, lexical_in, lexical_names, names_of_all, own_names, own_use, using_here, using_in}
use Rattle.es_statement_runs.specs.Places.{Take, all_good, more_taken, takes_of, value_taken}

-- the same declared names, with fresh ones between
pub data NamesMore (fresh : Text → Bool) : List Declared → List Declared → Type 0 where
  no_names : NamesMore fresh [] []
  as_before : {d : Declared} {ds es : List Declared} → NamesMore fresh ds es → NamesMore fresh (d ∷ ds) (d ∷ es)
  one_more : {d : Declared} {ds es : List Declared} → fresh d.name ≡ true → NamesMore fresh ds es → NamesMore fresh ds (d ∷ es)

-- As `Close`, but that the scope of a block, of a loop by `for` or of a `switch` may declare fresh names more than the first one's (ECMA-262, 14.2.2, 14.7.4.2
-- and 14.12.2: a scope's names are those of its declarations), and that rows know which names the second one's scopes around declare.
mutual
  pub data Grown (bad : Level → Text → Bool) (fresh : Text → Bool) (R : List Declared → Take → Tree → Tree → Type 0) : List Declared → Take → Tree → Tree → Type 0 where
    at_place : {ds : List Declared} {t : Take} {a b : Tree} → R ds t a b → Grown bad fresh R ds t a b
    in_node : {ds : List Declared} {t : Take} {k : AstType} {l m : Label} {fs gs : Fields} → is_bad bad t.need.level k l.texts ≡ false → m.texts ≡ l.texts → m.flags ≡ l.flags →
        own_names k gs ≡ own_names k fs → own_use k gs ≡ own_use k fs → label_in k gs ≡ label_in k fs → all_good bad (names_of_all (own_names k fs)) ≡ true →
        GrownFields bad fresh R (names_around k (own_names k fs) ds) (takes_of t k l.texts l.flags) fs gs → Grown bad fresh R ds t (node k l fs) (node k m gs)
    in_block : {ds : List Declared} {t : Take} {l m : Label} {ts us : Trees} → NamesMore fresh (lexical_in ts) (lexical_in us) → using_in us ≡ using_in ts → all_good bad (names_of_all (lexical_in ts)) ≡ true →
        GrownTrees bad fresh R (lexical_in us ++ ds) value_taken ts us → Grown bad fresh R ds t (node BlockStatement l (statements ts then done)) (node BlockStatement m (statements us then done))
    in_for : {ds : List Declared} {t : Take} {l m : Label} {a b : Tree} {f f' g g' h h' : Field} → NamesMore fresh (lexical_names a) (lexical_names b) → using_here b ≡ using_here a → all_good bad (names_of_all (lexical_names a)) ≡ true →
        GrownFields bad fresh R (λ i. lexical_names b ++ ds) (λ i. value_taken) (one a then f then g then h then done) (one b then f' then g' then h' then done) →
        Grown bad fresh R ds t (node ForStatement l (one a then f then g then h then done)) (node ForStatement m (one b then f' then g' then h' then done))
    -- the discriminant stands outside
    in_switch : {ds : List Declared} {t : Take} {l m : Label} {a b : Tree} {cs es : Trees} → NamesMore fresh (cases_names cs) (cases_names es) → cases_use es ≡ cases_use cs → all_good bad (names_of_all (cases_names cs)) ≡ true →
        Grown bad fresh R ds value_taken a b → GrownTrees bad fresh R (cases_names es ++ ds) more_taken cs es →
        Grown bad fresh R ds t (node SwitchStatement l (one a then many cs then done)) (node SwitchStatement m (one b then many es then done))

  pub data GrownFields (bad : Level → Text → Bool) (fresh : Text → Bool) (R : List Declared → Take → Tree → Tree → Type 0) : (ℕ → List Declared) → (ℕ → Take) → Fields → Fields → Type 0 where
    grown_done : {d : ℕ → List Declared} {c : ℕ → Take} → GrownFields bad fresh R d c done done
    grown_then : {d : ℕ → List Declared} {c : ℕ → Take} {f g : Field} {fs gs : Fields} → GrownField bad fresh R (d zero) (c zero) f g → GrownFields bad fresh R (λ i. d (suc i)) (λ i. c (suc i)) fs gs → GrownFields bad fresh R d c (f then fs) (g then gs)

  pub data GrownField (bad : Level → Text → Bool) (fresh : Text → Bool) (R : List Declared → Take → Tree → Tree → Type 0) : List Declared → Take → Field → Field → Type 0 where
    grown_missing : {ds : List Declared} {t : Take} → GrownField bad fresh R ds t missing missing
    grown_one : {ds : List Declared} {t : Take} {a b : Tree} → Grown bad fresh R ds t a b → GrownField bad fresh R ds t (one a) (one b)
    grown_many : {ds : List Declared} {t : Take} {ts us : Trees} → GrownTrees bad fresh R ds t ts us → GrownField bad fresh R ds t (many ts) (many us)
    grown_statements : {ds : List Declared} {t : Take} {ts us : Trees} → GrownTrees bad fresh R ds t ts us → GrownField bad fresh R ds t (statements ts) (statements us)

  pub data GrownTrees (bad : Level → Text → Bool) (fresh : Text → Bool) (R : List Declared → Take → Tree → Tree → Type 0) : List Declared → Take → Trees → Trees → Type 0 where
    grown_empty : {ds : List Declared} {t : Take} → GrownTrees bad fresh R ds t empty empty
    grown_before : {ds : List Declared} {t : Take} {a b : Tree} {ts us : Trees} → Grown bad fresh R ds t a b → GrownTrees bad fresh R ds t ts us → GrownTrees bad fresh R ds t (a before ts) (b before us)
