-- What is kept where a pattern moves: tests of every node, and that a name stands nowhere.
use Rattle.std.proofs.Common.{◌≡◌, inl, inr, ℕ, zero, suc, refl, ap, ◌∙◌, List, [], ◌∷◌, ◌++◌}
use Rattle.std.specs.Prelude.{◌⊎◌, Bool, true, false, ◌&&◌, ◌||◌, Some, bytes_eq, codes, if◌then◌else◌}
use Rattle.std.proofs.lemmas.Bool.{and_from, and_parts}
use Rattle.es_tree.specs.Fresh.{is_among}
use Rattle.es_tree.specs.Names.{first_text, is_name_place, is_reexport, names_if, names_in_field, names_in_fields, names_in_trees, own_name, third_stands}
use Rattle.es_tree.specs.Tree.{Tree, node, Label, Fields, done, ◌then◌, Field, missing, one, many, statements, Trees, empty, ◌before◌}
use Rattle.es_tree.specs.Walks.{all_in_field, all_in_fields, all_in_trees, all_nodes}
use Rattle.es_tree.specs.Words.{Text}
use Rattle.es_tree.specs.declared.ast_type.AstType.{AstType}
use Rattle.es_tree.specs.declared.ast_type.AstType.TheVariants.{BlockStatement, CatchClause, ExportNamedDeclaration, VariableDeclaration, VariableDeclarator}
use Rattle.es_runs.proofs.Temporary.{bytes_eq-flip}
use Rattle.es_resolution.specs.Declarations.{Bound}
use Rattle.es_steps.specs.LoopHeads.{IsForEach}
use Rattle.es_steps.specs.LoopHeads.IsForEach.{for_in, for_of}
use Rattle.es_steps.specs.Nodes.{block_node, declaration_node, declarator, declarator_with, identifier, made}
use Rattle.es_steps.specs.Patterns.{let_statement}
use Rattle.es_steps.specs.Steps.{Whole}
use Rattle.es_statement_runs.specs.Laws.{block_of, object_pattern_at}
use Rattle.es_statement_steps.proofs.MadeNames.{is_made_text, made_apart}
use Rattle.es_statement_steps.proofs.Below.{Below, BelowField, BelowTrees}
use Rattle.es_rest_runs.proofs.GrownNames.{Apt}
use Rattle.es_rest_runs.specs.Changing.{Changed, ChangedAmong, ChangedBy, ChangedIn}
use Rattle.es_rest_runs.specs.Changing.Changed.{below, here}
use Rattle.es_rest_runs.specs.Changing.ChangedAmong.{head_of, tail_of}
use Rattle.es_rest_runs.specs.Changing.ChangedBy.{many_of, one_of, statements_of}
use Rattle.es_rest_runs.specs.Changing.ChangedIn.{first_of, later_of}
use Rattle.es_moved_runs.proofs.CatchMoves.{CatchMoved}
use Rattle.es_moved_runs.proofs.CatchMoves.CatchMoved.{catch_moved}
use Rattle.es_moved_runs.proofs.HeadMoves.{HeadMoved}
use Rattle.es_moved_runs.proofs.HeadMoves.HeadMoved.{head_moved}
use Rattle.es_moved_runs.proofs.TurnedNames.{apt_parts}

-- of both rows
abbrev pub EitherMoved : Whole → Text → Tree → Tree → Type 0
EitherMoved w x a b = CatchMoved w x a b ⊎ HeadMoved w x a b

-- TESTS that pass each clause, block and declaration, and loops whose head declares a name alone

abbrev pub is_made_kind : AstType → Bool
is_made_kind BlockStatement = true
is_made_kind VariableDeclaration = true
is_made_kind VariableDeclarator = true
is_made_kind CatchClause = true
is_made_kind k = false

module _ (test : AstType → Label → Fields → Bool) (passes : (k : AstType) (l : Label) (fs : Fields) → is_made_kind k ≡ true → test k l fs ≡ true) (loops : (k : AstType) (m : Label) (kind : Text) (b : Bound) (e c : Tree) → IsForEach k → test k m (one (declaration_node kind (declarator b ∷ [])) then (one e then (one c then done))) ≡ true)
    (name_so : (b : Bound) → is_made_text b.name ≡ true → all_nodes test (identifier b) ≡ true) where
  abbrev All : Tree → Type 0
  All t = all_nodes test t ≡ true

  one_part : (k : AstType) (l : Label) (a : Tree) → is_made_kind k ≡ true → All a → All (node k l (one a then (missing then done)))
  one_part k l a e h = and_from (test k l (one a then (missing then done))) _ (passes k l _ e) (and_from (all_nodes test a) (true && true) h refl)

  two_parts : (k : AstType) (l : Label) (a b : Tree) → is_made_kind k ≡ true → All a → All b → All (node k l (one a then (one b then done)))
  two_parts k l a b e h g = and_from (test k l (one a then (one b then done))) _ (passes k l _ e) (and_from (all_nodes test a) (all_nodes test b && true) h (and_from (all_nodes test b) true g refl))

  declares_one : (l : Label) (d : Tree) → All d → All (node VariableDeclaration l (many (d before empty) then done))
  declares_one l d h = and_from (test VariableDeclaration l (many (d before empty) then done)) _ (passes VariableDeclaration l _ refl) (and_from (all_nodes test d && true) true (and_from (all_nodes test d) true h refl) refl)

  block_two : (a b : Tree) → All a → All b → All (block_node (a before (b before empty)))
  block_two a b h g =
      and_from (test BlockStatement (made [] []) (statements (a before (b before empty)) then done)) _ (passes BlockStatement (made [] []) _ refl)
      (and_from (all_nodes test a && (all_nodes test b && true)) true (and_from (all_nodes test a) (all_nodes test b && true) h (and_from (all_nodes test b) true g refl)) refl)

  -- `kind P = x;`
  declares_kept : (kind : Text) (p : Tree) (b : Bound) → is_made_text b.name ≡ true → All p → All (declaration_node kind (declarator_with p (identifier b) ∷ []))
  declares_kept kind p b e h = declares_one (made (Some kind ∷ []) []) (declarator_with p (identifier b)) (two_parts VariableDeclarator (made [] []) p (identifier b) refl h (name_so b e))

  head_kept : {k : AstType} (m : Label) (kind : Text) (b : Bound) (e c : Tree) → IsForEach k → All (declaration_node kind (declarator b ∷ [])) → All e → All c → All (node k m (one (declaration_node kind (declarator b ∷ [])) then (one e then (one c then done))))
  head_kept {k} m kind b e c each p q r =
      let h = declaration_node kind (declarator b ∷ []) in
      and_from (test k m (one h then (one e then (one c then done)))) _ (loops k m kind b e c each)
      (and_from (all_nodes test h) (all_nodes test e && (all_nodes test c && true)) p (and_from (all_nodes test e) (all_nodes test c && true) q (and_from (all_nodes test c) true r refl)))

  head_rest : {k : AstType} (m : Label) (h e c : Tree) → IsForEach k → All (node k m (one h then (one e then (one c then done)))) → All h × (All e × All c)
  head_rest {k} m h e c each t =
      let d = and_parts (all_nodes test h) (all_nodes test e && (all_nodes test c && true)) (and_parts (test k m (one h then (one e then (one c then done)))) _ t).1 in
      let f = and_parts (all_nodes test e) (all_nodes test c && true) d.1 in
      (d.0, (f.0, (and_parts (all_nodes test c) true f.1).0))

  pub moved_kept : (w : Whole) (x : Text) (a b : Tree) → EitherMoved w x a b → All a → All b
  moved_kept w x _ _ (inl (catch_moved m lp l ps bs s new)) t =
      let name : Bound = record { name = x; symbol = s } in
      let d = and_parts (all_nodes test (object_pattern_at lp ps)) (all_nodes test (block_of l bs) && true) (and_parts (test CatchClause m (one (object_pattern_at lp ps) then (one (block_of l bs) then done))) _ t).1 in
      two_parts CatchClause m (identifier name) (block_node (let_statement (object_pattern_at lp ps) name before (block_of l bs before empty))) refl (name_so name new.1)
      (block_two (let_statement (object_pattern_at lp ps) name) (block_of l bs) (declares_kept (codes "let") (object_pattern_at lp ps) name new.1 d.0) (and_parts (all_nodes test (block_of l bs)) true d.1).0)
  moved_kept w x _ _ (inr (head_moved m l j lp lb ps bs e s each new kind named asked)) t =
      let name : Bound = record { name = x; symbol = s } in
      let P = object_pattern_at lp ps in
      let H = node VariableDeclaration l (many (node VariableDeclarator j (one P then (missing then done)) before empty) then done) in
      let r = head_rest m H e (block_of lb bs) each t in
      let c = and_parts (all_in_trees test (node VariableDeclarator j (one P then (missing then done)) before empty)) true (and_parts (test VariableDeclaration l (many (node VariableDeclarator j (one P then (missing then done)) before empty) then done)) _ r.0).1 in
      let d = and_parts (all_nodes test (node VariableDeclarator j (one P then (missing then done)))) true c.0 in
      let p = and_parts (all_nodes test P) (true && true) (and_parts (test VariableDeclarator j (one P then (missing then done))) _ d.0).1 in
      head_kept m (first_text l.texts) name e (block_node (declaration_node (first_text l.texts) (declarator_with P (identifier name) ∷ []) before (block_of lb bs before empty))) each
      (declares_one (made (Some (first_text l.texts) ∷ []) []) (declarator name) (one_part VariableDeclarator (made [] []) (identifier name) refl (name_so name new.1))) r.1.0
      (block_two (declaration_node (first_text l.texts) (declarator_with P (identifier name) ∷ [])) (block_of lb bs) (declares_kept (first_text l.texts) P name new.1 p.0) r.1.1)

-- as tests are kept of which a node's asks what stands in its fields
module _ (A : Tree → Tree → Type 0) (c : AstType → Label → Fields → Bool) (kept : (a b : Tree) → A a b → all_nodes c a ≡ true → all_nodes c b ≡ true)
    (still : (k : AstType) (l : Label) (fs gs : Fields) → ChangedIn A fs gs → Apt (node k l fs) → c k l fs ≡ true → c k l gs ≡ true) where
  mutual
    pub apt_kept : {a b : Tree} → Changed A a b → Apt a → all_nodes c a ≡ true → all_nodes c b ≡ true
    apt_kept (here {a = a} {b = b} h) apt t = kept a b h t
    apt_kept (below {k = k} {l = l} {fs = fs} {gs = gs} h) apt t = let d = and_parts (c k l fs) (all_in_fields c fs) t in and_from (c k l gs) (all_in_fields c gs) (still k l fs gs h apt d.0) (apt_kept_in h (apt_parts k l fs apt) d.1)

    apt_kept_in : {fs gs : Fields} → ChangedIn A fs gs → Below (λ i. Apt) fs → all_in_fields c fs ≡ true → all_in_fields c gs ≡ true
    apt_kept_in (first_of {f = f} {g = g} {fs = fs} h) p t = let d = and_parts (all_in_field c f) (all_in_fields c fs) t in and_from (all_in_field c g) (all_in_fields c fs) (apt_kept_by h p.0 d.0) d.1
    apt_kept_in (later_of {f = f} {fs = fs} {gs = gs} h) p t = let d = and_parts (all_in_field c f) (all_in_fields c fs) t in and_from (all_in_field c f) (all_in_fields c gs) d.0 (apt_kept_in h p.1 d.1)

    apt_kept_by : {f g : Field} → ChangedBy A f g → BelowField Apt f → all_in_field c f ≡ true → all_in_field c g ≡ true
    apt_kept_by (one_of h) p t = apt_kept h p t
    apt_kept_by (many_of h) p t = apt_kept_among h p t
    apt_kept_by (statements_of h) p t = apt_kept_among h p t

    apt_kept_among : {ts us : Trees} → ChangedAmong A ts us → BelowTrees Apt ts → all_in_trees c ts ≡ true → all_in_trees c us ≡ true
    apt_kept_among (head_of {a = a} {b = b} {ts = ts} h) p t = let d = and_parts (all_nodes c a) (all_in_trees c ts) t in and_from (all_nodes c b) (all_in_trees c ts) (apt_kept h p.0 d.0) d.1
    apt_kept_among (tail_of {a = a} {ts = ts} {us = us} h) p t = let d = and_parts (all_nodes c a) (all_in_trees c ts) t in and_from (all_nodes c a) (all_in_trees c us) d.0 (apt_kept_among h p.1 d.1)

-- A NAME STANDS NOWHERE

module _ (h : Text) where
  abbrev pub Lacks : List Text → Type 0
  Lacks ns = is_among ns h ≡ false

  lacks_both : (xs ys : List Text) → Lacks xs → Lacks ys → Lacks (xs ++ ys)
  lacks_both [] ys e f = f
  lacks_both (x ∷ xs) ys e f = at (bytes_eq x h) e (λ g. lacks_both xs ys g f)
    where
      at : (b : Bool) → (b || is_among xs h) ≡ false → (is_among xs h ≡ false → is_among (xs ++ ys) h ≡ false) → (b || is_among (xs ++ ys) h) ≡ false
      at true e k = absurd (cc e)
      at false e k = k e

  lacks_left : (xs ys : List Text) → Lacks (xs ++ ys) → Lacks xs
  lacks_left [] ys e = refl
  lacks_left (x ∷ xs) ys e = at (bytes_eq x h) e (λ g. lacks_left xs ys g)
    where
      at : (b : Bool) → (b || is_among (xs ++ ys) h) ≡ false → (is_among (xs ++ ys) h ≡ false → is_among xs h ≡ false) → (b || is_among xs h) ≡ false
      at true e k = absurd (cc e)
      at false e k = k e

  lacks_right : (xs ys : List Text) → Lacks (xs ++ ys) → Lacks ys
  lacks_right [] ys e = e
  lacks_right (x ∷ xs) ys e = at (bytes_eq x h) e (λ g. lacks_right xs ys g)
    where
      at : (b : Bool) → (b || is_among (xs ++ ys) h) ≡ false → (is_among (xs ++ ys) h ≡ false → is_among ys h ≡ false) → is_among ys h ≡ false
      at true e k = absurd (cc e)
      at false e k = k e

  module _ (A : Tree → Tree → Type 0) (kept : (a b : Tree) → A a b → (c : Bool) → Lacks (names_if c a) → Lacks (names_if c b)) where
    third_same : {fs gs : Fields} → ChangedIn A fs gs → third_stands gs ≡ third_stands fs
    third_same (first_of {fs = done} x) = refl
    third_same (first_of {fs = b then done} x) = refl
    third_same (first_of {fs = b then (missing then fs)} x) = refl
    third_same (first_of {fs = b then (one t then fs)} x) = refl
    third_same (first_of {fs = b then (many ts then fs)} x) = refl
    third_same (first_of {fs = b then (statements ts then fs)} x) = refl
    third_same (later_of (first_of {fs = done} x)) = refl
    third_same (later_of (first_of {fs = missing then fs} x)) = refl
    third_same (later_of (first_of {fs = one t then fs} x)) = refl
    third_same (later_of (first_of {fs = many ts then fs} x)) = refl
    third_same (later_of (first_of {fs = statements ts then fs} x)) = refl
    third_same (later_of (later_of (first_of (one_of x)))) = refl
    third_same (later_of (later_of (first_of (many_of x)))) = refl
    third_same (later_of (later_of (first_of (statements_of x)))) = refl
    third_same (later_of (later_of (later_of {f = missing} x))) = refl
    third_same (later_of (later_of (later_of {f = one t} x))) = refl
    third_same (later_of (later_of (later_of {f = many ts} x))) = refl
    third_same (later_of (later_of (later_of {f = statements ts} x))) = refl

    reexport_same : {fs gs : Fields} (k : AstType) → ChangedIn A fs gs → is_reexport k gs ≡ is_reexport k fs
    reexport_same ExportNamedDeclaration x = third_same x
    reexport_same _ x = refl

    unless : (b d : Bool) (xs ys : List Text) → d ≡ b → (Lacks xs → Lacks ys) → Lacks (if b then [] else xs) → Lacks (if d then [] else ys)
    unless true true xs ys e f g = refl
    unless false false xs ys e f g = f g
    unless true false xs ys e f g = absurd (cc e)
    unless false true xs ys e f g = absurd (cc e)

    mutual
      pub lacks_kept : {a b : Tree} → Changed A a b → (c : Bool) → Lacks (names_if c a) → Lacks (names_if c b)
      lacks_kept (here {a = a} {b = b} x) c e = kept a b x c e
      lacks_kept (below {k = k} {l = l} {fs = fs} {gs = gs} x) c e =
          let others = if is_reexport k fs then [] else names_in_fields (is_name_place k l) fs in
          lacks_both (own_name c k l) (if is_reexport k gs then [] else names_in_fields (is_name_place k l) gs) (lacks_left (own_name c k l) others e)
          (unless (is_reexport k fs) (is_reexport k gs) (names_in_fields (is_name_place k l) fs) (names_in_fields (is_name_place k l) gs) (reexport_same k x) (lacks_in x (is_name_place k l)) (lacks_right (own_name c k l) others e))

      lacks_in : {fs gs : Fields} → ChangedIn A fs gs → (c : ℕ → Bool) → Lacks (names_in_fields c fs) → Lacks (names_in_fields c gs)
      lacks_in (first_of {f = f} {g = g} {fs = fs} x) c e =
          lacks_both (names_in_field (c zero) g) (names_in_fields (λ n. c (suc n)) fs) (lacks_by x (c zero) (lacks_left (names_in_field (c zero) f) (names_in_fields (λ n. c (suc n)) fs) e)) (lacks_right (names_in_field (c zero) f) (names_in_fields (λ n. c (suc n)) fs) e)
      lacks_in (later_of {f = f} {fs = fs} {gs = gs} x) c e =
          lacks_both (names_in_field (c zero) f) (names_in_fields (λ n. c (suc n)) gs) (lacks_left (names_in_field (c zero) f) (names_in_fields (λ n. c (suc n)) fs) e) (lacks_in x (λ n. c (suc n)) (lacks_right (names_in_field (c zero) f) (names_in_fields (λ n. c (suc n)) fs) e))

      lacks_by : {f g : Field} → ChangedBy A f g → (c : Bool) → Lacks (names_in_field c f) → Lacks (names_in_field c g)
      lacks_by (one_of x) c e = lacks_kept x c e
      lacks_by (many_of x) c e = lacks_among x e
      lacks_by (statements_of x) c e = lacks_among x e

      lacks_among : {ts us : Trees} → ChangedAmong A ts us → Lacks (names_in_trees ts) → Lacks (names_in_trees us)
      lacks_among (head_of {a = a} {b = b} {ts = ts} x) e = lacks_both (names_if true b) (names_in_trees ts) (lacks_kept x true (lacks_left (names_if true a) (names_in_trees ts) e)) (lacks_right (names_if true a) (names_in_trees ts) e)
      lacks_among (tail_of {a = a} {ts = ts} {us = us} x) e = lacks_both (names_if true a) (names_in_trees us) (lacks_left (names_if true a) (names_in_trees ts) e) (lacks_among x (lacks_right (names_if true a) (names_in_trees ts) e))

  -- what moves holds the names that it held, and the fresh one
  module _ (other : is_made_text h ≡ false) where
    fresh_lacks : (x : Text) → is_made_text x ≡ true → Lacks (x ∷ [])
    fresh_lacks x e = ap (λ b. b || false) (bytes_eq-flip x h ∙ made_apart h x other e)

    moved_lacks : (x : Text) (P B : List Text) → is_made_text x ≡ true → Lacks P → Lacks B → Lacks (((((P ++ ((x ∷ []) ++ [])) ++ []) ++ []) ++ (B ++ [])) ++ [])
    moved_lacks x P B e p b =
        let X = x ∷ [] in
        lacks_both ((((P ++ (X ++ [])) ++ []) ++ []) ++ (B ++ [])) [] (lacks_both (((P ++ (X ++ [])) ++ []) ++ []) (B ++ []) (lacks_both ((P ++ (X ++ [])) ++ []) [] (lacks_both (P ++ (X ++ [])) [] (lacks_both P (X ++ []) p (lacks_both X [] (fresh_lacks x e) refl)) refl) refl) (lacks_both B [] b refl)) refl

    catch_lacks : (x : Text) (P B : List Text) → is_made_text x ≡ true → Lacks (P ++ (B ++ [])) → Lacks ((x ∷ []) ++ ((((((P ++ ((x ∷ []) ++ [])) ++ []) ++ []) ++ (B ++ [])) ++ []) ++ []))
    catch_lacks x P B e k =
        lacks_both (x ∷ []) ((((((P ++ ((x ∷ []) ++ [])) ++ []) ++ []) ++ (B ++ [])) ++ []) ++ []) (fresh_lacks x e)
        (lacks_both (((((P ++ ((x ∷ []) ++ [])) ++ []) ++ []) ++ (B ++ [])) ++ []) [] (moved_lacks x P B e (lacks_left P (B ++ []) k) (lacks_left B [] (lacks_right P (B ++ []) k))) refl)

    loop_lacks : (x : Text) (P E B : List Text) → is_made_text x ≡ true → Lacks ((((P ++ ([] ++ [])) ++ []) ++ []) ++ (E ++ (B ++ []))) → Lacks (((((x ∷ []) ++ ([] ++ [])) ++ []) ++ []) ++ (E ++ ((((((P ++ ((x ∷ []) ++ [])) ++ []) ++ []) ++ (B ++ [])) ++ []) ++ [])))
    loop_lacks x P E B e k =
        let H = ((P ++ ([] ++ [])) ++ []) ++ [] in
        let X = ((x ∷ []) ++ ([] ++ [])) ++ [] in
        let M = ((((P ++ ((x ∷ []) ++ [])) ++ []) ++ []) ++ (B ++ [])) ++ [] in
        let r = lacks_right H (E ++ (B ++ [])) k in
        lacks_both (X ++ []) (E ++ (M ++ [])) (lacks_both X [] (lacks_both ((x ∷ []) ++ ([] ++ [])) [] (lacks_both (x ∷ []) ([] ++ []) (fresh_lacks x e) refl) refl) refl)
        (lacks_both E (M ++ []) (lacks_left E (B ++ []) r) (lacks_both M [] (moved_lacks x P B e (lacks_left P ([] ++ []) (lacks_left (P ++ ([] ++ [])) [] (lacks_left ((P ++ ([] ++ [])) ++ []) [] (lacks_left H (E ++ (B ++ [])) k)))) (lacks_left B [] (lacks_right E (B ++ []) r))) refl))

    pub moved_names : (w : Whole) (x : Text) (a b : Tree) → EitherMoved w x a b → (c : Bool) → Lacks (names_if c a) → Lacks (names_if c b)
    moved_names w x _ _ (inl (catch_moved m lp l ps bs s new)) true e = catch_lacks x (names_if true (object_pattern_at lp ps)) (names_if true (block_of l bs)) new.1 e
    moved_names w x _ _ (inl (catch_moved m lp l ps bs s new)) false e = catch_lacks x (names_if true (object_pattern_at lp ps)) (names_if true (block_of l bs)) new.1 e
    moved_names w x _ _ (inr (head_moved m l j lp lb ps bs t s for_in new kind named asked)) true e = loop_lacks x (names_if true (object_pattern_at lp ps)) (names_if true t) (names_if true (block_of lb bs)) new.1 e
    moved_names w x _ _ (inr (head_moved m l j lp lb ps bs t s for_in new kind named asked)) false e = loop_lacks x (names_if true (object_pattern_at lp ps)) (names_if true t) (names_if true (block_of lb bs)) new.1 e
    moved_names w x _ _ (inr (head_moved m l j lp lb ps bs t s for_of new kind named asked)) true e = loop_lacks x (names_if true (object_pattern_at lp ps)) (names_if true t) (names_if true (block_of lb bs)) new.1 e
    moved_names w x _ _ (inr (head_moved m l j lp lb ps bs t s for_of new kind named asked)) false e = loop_lacks x (names_if true (object_pattern_at lp ps)) (names_if true t) (names_if true (block_of lb bs)) new.1 e
