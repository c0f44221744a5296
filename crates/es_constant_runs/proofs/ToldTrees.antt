-- Trees that are close mean the same also where hidden names stand as keys or labels: what a name stands for isn't heard there.
use Rattle.std.proofs.Common.{◌≡◌, ℕ, zero, suc, refl, sym, ap, List, [], ◌∷◌, subst}
use Rattle.std.proofs.lemmas.Bool.{or_parts}
use Rattle.std.specs.Prelude.{◌&&◌, Bool, true, false, not, Option}
use Rattle.es_tree.specs.Names.{first_text}
use Rattle.es_tree.specs.Scopes.{Declared}
use Rattle.es_tree.specs.Tree.{Tree, node, Label, Fields, Field, Trees}
use Rattle.es_tree.specs.Words.{Text}
use Rattle.es_tree.specs.declared.ast_type.AstType.{AstType}
use Rattle.es_tree.specs.declared.ast_type.AstType.TheVariants.{Identifier}
use Rattle.es_runs.specs.Alike.{Frame, Level, SameWorld, bad_names, is_bad}
use Rattle.es_runs.specs.Alike.Level.{a_target}
use Rattle.es_runs.specs.Core.{World}
use Rattle.es_runs.specs.Runs.{none_hidden, only}
use Rattle.es_runs.proofs.Everywhere.{kind_like}
use Rattle.es_runs.proofs.Everywhere.PartsLike.{no_part}
use Rattle.es_statement_runs.specs.Alike.{Told, Quiet, StackSeen, SenseLike, SensesLike, PortionLike, PortionsLike}
use Rattle.es_statement_runs.specs.Alike.MoreLike.{same_nothing}
use Rattle.es_statement_runs.specs.Alike.PortionsLike.{no_portion, one_portion}
use Rattle.es_statement_runs.specs.Helpers.Supply.{by_global}
use Rattle.es_statement_runs.specs.Kinds.{from_portions, inside, label_in, portion, portions, sense, senses}
use Rattle.es_statement_runs.specs.Laws.{any_cells}
use Rattle.es_statement_runs.specs.Names.{names_of_all, own_names, own_use}
use Rattle.es_statement_runs.specs.Places.{Close, CloseField, CloseFields, CloseTrees, HelpersSeen, Take, all_good, placed_at, takes_of}
use Rattle.es_statement_runs.specs.Places.Close.{placed, within}
use Rattle.es_statement_runs.specs.Places.CloseField.{close_many, close_missing, close_one, close_statements}
use Rattle.es_statement_runs.specs.Places.CloseFields.{close_done, close_then}
use Rattle.es_statement_runs.specs.Places.CloseTrees.{close_before, close_empty}
use Rattle.es_statement_runs.specs.Senses.{Place, Sense}
use Rattle.es_statement_runs.proofs.Everywhere.{PlaceLike, inside_like, said_alike, visible_good}
use Rattle.es_statement_runs.proofs.Everywhere.PlaceLike.{place_like}
use Rattle.es_statement_runs.proofs.KindsAlike.{inner, kind_close}
use Rattle.es_import_runs.proofs.Callings.{helpers_}
use Rattle.es_import_runs.proofs.ToldPlaces.{HeardAll, alone_heard, gap_heard, heard, heard_parts, heard_portions, heard_sense, is_told, name_unsaid, rows_heard, sense_heard, senses_untold}
use Rattle.es_import_runs.proofs.ToldPlaces.HeardAll.{heard_and, heard_none}

-- a name that is only told
abbrev is_told_name : Level → AstType → Bool
is_told_name n Identifier = is_told n
is_told_name n k = false

told_level : (n : Level) → is_told n ≡ true → n ≡ Level.no_evaluation
told_level Level.no_evaluation e = refl
told_level _ e = absurd (cc e)

module _ (hidden : Text → Bool) where
  abbrev pub F : Frame
  F = any_cells hidden

  -- hidden names are bad where they are evaluated, and `babelHelpers` as a target
  abbrev pub bad : Level → Text → Bool
  bad = bad_names hidden (only helpers_)

  -- and hidden ones where they are told, too
  abbrev pub strict : Level → Text → Bool
  strict Level.no_evaluation x = hidden x
  strict n x = bad_names hidden (only helpers_) n x

  pub below : (n : Level) (x : Text) → strict n x ≡ false → bad_names hidden none_hidden n x ≡ false
  below Level.no_evaluation x h = refl
  below a_target x h = rw ((or_parts (hidden x) (only helpers_ x) h).0) refl
  below _ x h = h

  visible_name : (n : Level) (x : Text) → strict n x ≡ false → hidden x ≡ false
  visible_name a_target x h = (or_parts (hidden x) (only helpers_ x) h).0
  visible_name _ x h = h

  -- targets are the same
  strict_good : (xs : List Text) → all_good bad xs ≡ true → all_good strict xs ≡ true
  strict_good [] h = h
  strict_good (x ∷ xs) h = at (not (bad a_target x)) h (strict_good xs)
    where
      at : (b : Bool) → (b && all_good bad xs) ≡ true → (all_good bad xs ≡ true → all_good strict xs ≡ true) → (b && all_good strict xs) ≡ true
      at true g rest = rest g
      at false g rest = absurd (cc g)

  -- a name that is evaluated, and what is none
  strict_here : (n : Level) (k : AstType) (ts : List (Option Text)) → is_told_name n k ≡ false → is_bad bad n k ts ≡ false → is_bad strict n k ts ≡ false
  strict_here Level.no_evaluation Identifier ts e h = absurd (cc e)
  strict_here a_target Identifier ts e h = h
  strict_here _ Identifier ts e h = h
  strict_here n _ ts e h = refl

  module _ (quiet : Quiet F) (stack : StackSeen F) (seen : HelpersSeen F) (Known : World → World → Type 0) (kept : (ds : List Declared) → all_good strict (names_of_all ds) ≡ true → (w v : World) → Known w v → Known (inner w ds) (inner v ds)) where
    pub told : Told F strict by_global
    told = record { helpers = seen; names = visible_name }

    abbrev pub At : Place → Place → Type 0
    At p q = PlaceLike F quiet stack strict below by_global told Known kept p q

    -- places in worlds of which that is known
    pub at_worlds : {w v : World} {ls : List Text} {x : Text} → SameWorld hidden w v → Known w v → At (placed_at by_global w ls x) (placed_at by_global v ls x)
    at_worlds same known = place_like same known

    -- what stands in two places means the same, as it is heard there
    abbrev pub Heard : Take → World → World → Sense → Sense → Type 0
    Heard n w v e d = SenseLike F w v n (heard_sense n.need.level e) (heard_sense n.need.level d)

    -- rows that mean the same in such worlds
    abbrev pub Row : Take → Tree → Tree → Type 0
    Row n a b = (w v : World) → SameWorld hidden w v → Known w v → (ls : List Text) (x : Text) → Heard n w v (sense (placed_at by_global w ls x) a) (sense (placed_at by_global v ls x) b)

    name_told : (n : Take) (l m : Label) (fs gs : Fields) (w v : World) → SameWorld hidden w v → (ls : List Text) (x : Text) → m.texts ≡ l.texts → n.need.level ≡ Level.no_evaluation →
        Heard n w v (sense (placed_at by_global w ls x) (node Identifier l fs)) (sense (placed_at by_global v ls x) (node Identifier m gs))
    name_told n l m fs gs w v same ls x texts e =
        let like : SenseLike F w v n (heard_sense Level.no_evaluation (sense (placed_at by_global w ls x) (node Identifier l fs))) (heard_sense Level.no_evaluation (sense (placed_at by_global v ls x) (node Identifier m gs))) =
        rw texts (record {
          core = kind_like F w v same n.need Identifier l.texts l.flags {ps = []} {qs = []} (ap (λ (m : Level). bad_names hidden none_hidden m (first_text l.texts)) e) no_part;
          more = λ _. rw (name_unsaid by_global (w.scope (first_text l.texts)), name_unsaid by_global (v.scope (first_text l.texts))) same_nothing;
        }) in
        subst (λ (i : Level). SenseLike F w v n (heard_sense i (sense (placed_at by_global w ls x) (node Identifier l fs))) (heard_sense i (sense (placed_at by_global v ls x) (node Identifier m gs)))) (sym e) like

    -- the fields of a node, as it hears them
    abbrev FieldsHeard : Take → AstType → Label → Fields → Fields → World → World → List Text → Text → Type 0
    FieldsHeard n k l fs gs w v ls x =
        PortionsLike F (λ i. (inside (placed_at by_global w ls x) k l.texts (own_names k fs) (label_in k fs) i).world) (λ i. (inside (placed_at by_global v ls x) k l.texts (own_names k fs) (label_in k fs) i).world) (takes_of n k l.texts l.flags)
        (heard_parts (takes_of n k l.texts l.flags) (portions (inside (placed_at by_global w ls x) k l.texts (own_names k fs) (label_in k fs)) fs)) (heard_parts (takes_of n k l.texts l.flags) (portions (inside (placed_at by_global v ls x) k l.texts (own_names k fs) (label_in k fs)) gs))

    untold_like : (n : Take) (k : AstType) (l m : Label) (fs gs : Fields) (w v : World) → SameWorld hidden w v → (ls : List Text) (x : Text) → is_bad strict n.need.level k l.texts ≡ false → m.texts ≡ l.texts → m.flags ≡ l.flags →
        own_names k gs ≡ own_names k fs → own_use k gs ≡ own_use k fs → label_in k gs ≡ label_in k fs → all_good bad (names_of_all (own_names k fs)) ≡ true →
        FieldsHeard n k l fs gs w v ls x → SenseLike F w v n (sense (placed_at by_global w ls x) (node k l fs)) (sense (placed_at by_global v ls x) (node k m gs))
    untold_like n k l m fs gs w v same ls x st texts flags names uses_same label good h =
        let ds = own_names k fs in
        let uses = own_use k fs in
        let vs = label_in k fs in
        let p = placed_at by_global w ls x in
        let q = placed_at by_global v ls x in
        let xs = portions (inside p k l.texts ds vs) fs in
        let ys = portions (inside q k l.texts ds vs) gs in
        let close = kind_close F quiet strict below by_global told n w v same ls x k l.texts l.flags ds uses vs (λ _. stack) (λ _. stack) st (visible_good F strict below (names_of_all ds) (strict_good (names_of_all ds) good)) h in
        said_alike F quiet stack strict below by_global told Known kept (λ t a b. ⊥) (λ t a b r. absurd r) n w v same ls x k l.texts m.texts l.flags m.flags ds (own_names k gs) uses (own_use k gs) vs (label_in k gs) xs
        (λ us es ws. portions (inside q k us es ws) gs) texts flags names uses_same label
        (subst (λ (d : Sense). SenseLike F w v n (from_portions p k l.texts l.flags ds uses vs xs) d) (heard_portions n q k l.texts l.flags ds uses vs ys)
        (subst (λ (e : Sense). SenseLike F w v n e (from_portions q k l.texts l.flags ds uses vs (heard_parts (takes_of n k l.texts l.flags) ys))) (heard_portions n p k l.texts l.flags ds uses vs xs) close))

    node_like : (n : Take) (k : AstType) (l m : Label) (fs gs : Fields) (w v : World) → SameWorld hidden w v → (ls : List Text) (x : Text) → is_bad bad n.need.level k l.texts ≡ false → m.texts ≡ l.texts → m.flags ≡ l.flags →
        own_names k gs ≡ own_names k fs → own_use k gs ≡ own_use k fs → label_in k gs ≡ label_in k fs → all_good bad (names_of_all (own_names k fs)) ≡ true →
        FieldsHeard n k l fs gs w v ls x → (b : Bool) → is_told_name n.need.level k ≡ b → Heard n w v (sense (placed_at by_global w ls x) (node k l fs)) (sense (placed_at by_global v ls x) (node k m gs))
    node_like n Identifier l m fs gs w v same ls x st texts flags names uses label good h true e = name_told n l m fs gs w v same ls x texts (told_level n.need.level e)
    node_like n _ l m fs gs w v same ls x st texts flags names uses label good h true e = absurd (cc e)
    node_like n k l m fs gs w v same ls x st texts flags names uses label good h false e =
        sense_heard F w v n (sense (placed_at by_global w ls x) (node k l fs)) (sense (placed_at by_global v ls x) (node k m gs)) (untold_like n k l m fs gs w v same ls x (strict_here n.need.level k l.texts e st) texts flags names uses label good h)

    mutual
      pub tree_heard : {n : Take} {a b : Tree} → Close bad Row n a b → {p q : Place} → At p q → Heard n p.world q.world (sense p a) (sense q b)
      tree_heard (placed r) (place_like {w = w} {v = v} {ls = ls} {x = x} same known) = r w v same known ls x
      tree_heard (within {t = n} {k = k} {l = l} {m = m} {fs = fs} {gs = gs} st texts flags names uses label good h) (place_like {w = w} {v = v} {ls = ls} {x = x} same known) =
          node_like n k l m fs gs w v same ls x st texts flags names uses label good
          (fields_heard h (λ i. inside (placed_at by_global w ls x) k l.texts (own_names k fs) (label_in k fs) i) (λ i. inside (placed_at by_global v ls x) k l.texts (own_names k fs) (label_in k fs) i)
          (λ i. inside_like F quiet stack strict below by_global told Known kept w v ls x same known k l.texts (own_names k fs) (label_in k fs) i (strict_good (names_of_all (own_names k fs)) good))) (is_told_name n.need.level k) refl

      fields_heard : {g : ℕ → Take} {fs gs : Fields} → CloseFields bad Row g fs gs → (at bt : ℕ → Place) → ((i : ℕ) → At (at i) (bt i)) → PortionsLike F (λ i. (at i).world) (λ i. (bt i).world) g (heard_parts g (portions at fs)) (heard_parts g (portions bt gs))
      fields_heard close_done at bt e = no_portion
      fields_heard (close_then f fs) at bt e = one_portion (field_heard f (e zero)) (fields_heard fs (λ i. at (suc i)) (λ i. bt (suc i)) (λ i. e (suc i)))

      field_heard : {n : Take} {f g : Field} → CloseField bad Row n f g → {p q : Place} → At p q → PortionLike F p.world q.world n (heard n (portion p f)) (heard n (portion q g))
      field_heard (close_missing {t = n}) {p = p} {q = q} e = gap_heard F p.world q.world n
      field_heard (close_one {t = n} {a = a} {b = b} h) {p = p} {q = q} e = alone_heard F p.world q.world n (sense p a) (sense q b) (tree_heard h e)
      field_heard (close_many {t = n} h) {p = p} {q = q} e = rows_heard F p.world q.world n (all_heard h e)
      field_heard (close_statements {t = n} h) {p = p} {q = q} e = rows_heard F p.world q.world n (all_heard h e)

      all_heard : {n : Take} {ts us : Trees} → CloseTrees bad Row n ts us → {p q : Place} → At p q → HeardAll F p.world q.world n (senses p ts) (senses q us)
      all_heard close_empty e = heard_none
      all_heard (close_before h hs) e = heard_and (tree_heard h e) (all_heard hs e)

    -- where values are taken
    pub trees_heard : {n : Take} {ts us : Trees} → is_told n.need.level ≡ false → CloseTrees bad Row n ts us → {p q : Place} → At p q → SensesLike F p.world q.world n (senses p ts) (senses q us)
    trees_heard {n = n} level h {p = p} {q = q} e = senses_untold F p.world q.world n level (all_heard h e)
