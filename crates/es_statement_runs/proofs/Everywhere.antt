-- Trees that are close are alike.
use Rattle.std.proofs.Common.{◌≡◌, refl, List, [], ◌∷◌}
use Rattle.std.specs.Prelude.{ℕ, zero, suc, Bool, true, false, not, ◌&&◌, ◌||◌, Option, if◌then◌else◌}
use Rattle.es_tree.specs.Words.{Text}
use Rattle.es_tree.specs.Scopes.{Declared}
use Rattle.es_tree.specs.Tree.{Tree, node, Label, Fields, done, ◌then◌, Field, missing, one, many, statements, Trees, empty, ◌before◌}
use Rattle.es_tree.specs.declared.ast_type.AstType.{AstType}
use Rattle.es_tree.specs.declared.ast_type.AstType.TheVariants.{BlockStatement, ForStatement, ForInStatement, ForOfStatement, CatchClause, SwitchStatement, LabeledStatement, VariableDeclaration}
use Rattle.es_runs.specs.Core.{World}
use Rattle.es_runs.specs.Alike.{Frame, SameWorld, Level, is_bad, bad_names}
use Rattle.es_runs.specs.Alike.Level.{a_target}
use Rattle.es_statement_runs.specs.Alike.{Told, Quiet, StackSeen, all_visible, SenseLike, SensesLike, PortionLike, PortionsLike}
use Rattle.es_statement_runs.specs.Alike.SensesLike.{no_sense, sense_and}
use Rattle.es_statement_runs.specs.Alike.PortionLike.{gap_like, alone_like, rows_like}
use Rattle.es_statement_runs.specs.Alike.PortionsLike.{no_portion, one_portion}
use Rattle.es_statement_runs.specs.Helpers.{Supply}
use Rattle.es_statement_runs.specs.Names.{own_names, own_use, names_of_all}
use Rattle.es_statement_runs.specs.Senses.{Place, Portion}
use Rattle.es_statement_runs.specs.Kinds.{sense, senses, portion, portions, inside, from_portions, label_in}
use Rattle.es_statement_runs.specs.Places.{placed_at, all_good, Take, takes_of, Close, CloseFields, CloseField, CloseTrees, avoids, avoids_fields, avoids_field, avoids_trees}
use Rattle.es_statement_runs.specs.Places.Close.{placed, within}
use Rattle.es_statement_runs.specs.Places.CloseFields.{close_done, close_then}
use Rattle.es_statement_runs.specs.Places.CloseField.{close_missing, close_one, close_many, close_statements}
use Rattle.es_statement_runs.specs.Places.CloseTrees.{close_empty, close_before}
use Rattle.es_statement_runs.proofs.KindsAlike.{kind_close, inner_same, inner}

pub visible_good : (F : Frame) (bad : Level → Text → Bool) → ((n : Level) (x : Text) → bad n x ≡ false → bad_names F.hidden F.frozen n x ≡ false) → (xs : List Text) → all_good bad xs ≡ true → all_visible F xs ≡ true
visible_good F bad below [] h = refl
visible_good F bad below (x ∷ xs) h =
    let i : bad a_target x ≡ false = not_so_here (bad a_target x) (all_good bad xs) h in
    let j : (F.hidden x || F.frozen x) ≡ false = below a_target x i in
    let k : all_good bad xs ≡ true = rest_so (bad a_target x) (all_good bad xs) h in
    rw (j, visible_good F bad below xs k) refl
  where
    not_so_here : (a b : Bool) → (not a && b) ≡ true → a ≡ false
    not_so_here true b h = absurd (cc h)
    not_so_here false b h = refl

    rest_so : (a b : Bool) → (not a && b) ≡ true → b ≡ true
    rest_so true b h = absurd (cc h)
    rest_so false b h = h

-- what is known of the worlds, which scopes that declare good names keep
module _ (F : Frame) (quiet : Quiet F) (stack : StackSeen F) (bad : Level → Text → Bool) (below : (n : Level) (x : Text) → bad n x ≡ false → bad_names F.hidden F.frozen n x ≡ false) (o : Supply) (told : Told F bad o) (Known : World → World → Type 0) (kept : (ds : List Declared) → all_good bad (names_of_all ds) ≡ true → (w v : World) → Known w v → Known (inner w ds) (inner v ds)) where
  pub data PlaceLike : Place → Place → Type 0 where
    place_like : {w v : World} {ls : List Text} {x : Text} → SameWorld F.hidden w v → Known w v → PlaceLike (placed_at o w ls x) (placed_at o v ls x)

  pub inside_like : (w v : World) (ls : List Text) (x : Text) → SameWorld F.hidden w v → Known w v → (k : AstType) (ts : List (Option Text)) (ds : List Declared) (vs : List Text) (i : ℕ) → all_good bad (names_of_all ds) ≡ true → PlaceLike (inside (placed_at o w ls x) k ts ds vs i) (inside (placed_at o v ls x) k ts ds vs i)
  inside_like w v ls x same e BlockStatement ts ds vs i vis = place_like (inner_same F quiet ds w v same) (kept ds vis w v e)
  inside_like w v ls x same e ForStatement ts ds vs i vis = place_like (inner_same F quiet ds w v same) (kept ds vis w v e)
  inside_like w v ls x same e ForInStatement ts ds vs i vis = place_like (inner_same F quiet ds w v same) (kept ds vis w v e)
  inside_like w v ls x same e ForOfStatement ts ds vs i vis = place_like (inner_same F quiet ds w v same) (kept ds vis w v e)
  inside_like w v ls x same e CatchClause ts ds vs i vis = place_like (inner_same F quiet ds w v same) (kept ds vis w v e)
  inside_like w v ls x same e SwitchStatement ts ds vs (suc i) vis = place_like (inner_same F quiet ds w v same) (kept ds vis w v e)
  inside_like w v ls x same e SwitchStatement ts ds vs zero vis = place_like same e
  inside_like w v ls x same e LabeledStatement ts ds vs i vis = place_like same e
  inside_like w v ls x same e VariableDeclaration ts ds vs i vis = place_like same e
  inside_like w v ls x same e _ ts ds vs i vis = place_like same e

  module _ (R : Take → Tree → Tree → Type 0) (base : (t : Take) (a b : Tree) → R t a b → (w v : World) → SameWorld F.hidden w v → Known w v → (ls : List Text) (x : Text) → SenseLike F w v t (sense (placed_at o w ls x) a) (sense (placed_at o v ls x) b)) where
    -- what the second node says in its own words is what the first says
    pub said_alike : (t : Take) (w v : World) → SameWorld F.hidden w v → (ls : List Text) (x : Text) (k : AstType) (ts us : List (Option Text)) (fs gs : List Bool) (ds es : List Declared) (b d : Bool) (vs ws : List Text) (xs : List Portion) (ys : (List (Option Text)) → List Declared → List Text → List Portion) →
        us ≡ ts → gs ≡ fs → es ≡ ds → d ≡ b → ws ≡ vs → SenseLike F w v t (from_portions (placed_at o w ls x) k ts fs ds b vs xs) (from_portions (placed_at o v ls x) k ts fs ds b vs (ys ts ds vs)) →
        SenseLike F w v t (from_portions (placed_at o w ls x) k ts fs ds b vs xs) (from_portions (placed_at o v ls x) k us gs es d ws (ys us es ws))
    said_alike t w v same ls x k ts us fs gs ds es b d vs ws xs ys h1 h2 h3 h4 h5 h = rw (h1, h2, h3, h4, h5) h

    -- a node is alike where its fields are
    pub within_like : (t : Take) (k : AstType) (l m : Label) (fs gs : Fields) (w v : World) → SameWorld F.hidden w v → (ls : List Text) (x : Text) → is_bad bad t.need.level k l.texts ≡ false → m.texts ≡ l.texts → m.flags ≡ l.flags →
        own_names k gs ≡ own_names k fs → own_use k gs ≡ own_use k fs → label_in k gs ≡ label_in k fs → all_good bad (names_of_all (own_names k fs)) ≡ true →
        PortionsLike F (λ i. (inside (placed_at o w ls x) k l.texts (own_names k fs) (label_in k fs) i).world) (λ i. (inside (placed_at o v ls x) k l.texts (own_names k fs) (label_in k fs) i).world) (takes_of t k l.texts l.flags)
        (portions (inside (placed_at o w ls x) k l.texts (own_names k fs) (label_in k fs)) fs) (portions (inside (placed_at o v ls x) k l.texts (own_names k fs) (label_in k fs)) gs) →
        SenseLike F w v t (sense (placed_at o w ls x) (node k l fs)) (sense (placed_at o v ls x) (node k m gs))
    within_like t k l m fs gs w v same ls x st e1 e2 e3 e4 e5 vis h =
        said_alike t w v same ls x k l.texts m.texts l.flags m.flags (own_names k fs) (own_names k gs) (own_use k fs) (own_use k gs) (label_in k fs) (label_in k gs)
        (portions (inside (placed_at o w ls x) k l.texts (own_names k fs) (label_in k fs)) fs) (λ us es ws. portions (inside (placed_at o v ls x) k us es ws) gs) e1 e2 e3 e4 e5
        (kind_close F quiet bad below o told t w v same ls x k l.texts l.flags (own_names k fs) (own_use k fs) (label_in k fs) (λ _. stack) (λ _. stack) st (visible_good F bad below (names_of_all (own_names k fs)) vis) h)

    mutual
      pub close_like : {t : Take} {a b : Tree} → Close bad R t a b → {p q : Place} → PlaceLike p q → SenseLike F p.world q.world t (sense p a) (sense q b)
      close_like (placed {t = t} {a = a} {b = b} r) (place_like {w = w} {v = v} {ls = ls} {x = x} same e) = base t a b r w v same e ls x
      close_like (within {t = t} {k = k} {l = l} {m = m} {fs = fs} {gs = gs} st e1 e2 e3 e4 e5 vis h) (place_like {w = w} {v = v} {ls = ls} {x = x} same e) =
          within_like t k l m fs gs w v same ls x st e1 e2 e3 e4 e5 vis
          (close_portions h (λ i. inside (placed_at o w ls x) k l.texts (own_names k fs) (label_in k fs) i) (λ i. inside (placed_at o v ls x) k l.texts (own_names k fs) (label_in k fs) i) (λ i. inside_like w v ls x same e k l.texts (own_names k fs) (label_in k fs) i vis))

      pub close_portions : {g : ℕ → Take} {fs gs : Fields} → CloseFields bad R g fs gs → (at bt : ℕ → Place) → ((i : ℕ) → PlaceLike (at i) (bt i)) → PortionsLike F (λ i. (at i).world) (λ i. (bt i).world) g (portions at fs) (portions bt gs)
      close_portions close_done at bt h = no_portion
      close_portions (close_then f fs) at bt h = one_portion (close_portion f (h zero)) (close_portions fs (λ i. at (suc i)) (λ i. bt (suc i)) (λ i. h (suc i)))

      pub close_portion : {t : Take} {f g : Field} → CloseField bad R t f g → {p q : Place} → PlaceLike p q → PortionLike F p.world q.world t (portion p f) (portion q g)
      close_portion close_missing h = gap_like
      close_portion (close_one g) h = alone_like (close_like g h)
      close_portion (close_many g) h = rows_like (close_senses g h)
      close_portion (close_statements g) h = rows_like (close_senses g h)

      pub close_senses : {t : Take} {xs ys : Trees} → CloseTrees bad R t xs ys → {p q : Place} → PlaceLike p q → SensesLike F p.world q.world t (senses p xs) (senses q ys)
      close_senses close_empty h = no_sense
      close_senses (close_before g gs) h = sense_and (close_like g h) (close_senses gs h)

-- A TREE THAT AVOIDS WHAT IS BAD IS CLOSE TO ITSELF

pub both_left : (a b : Bool) → a && b ≡ true → a ≡ true
both_left true b h = refl
both_left false b h = absurd (cc h)

pub both_right : (a b : Bool) → a && b ≡ true → b ≡ true
both_right true b h = h
both_right false b h = absurd (cc h)

pub not_so : (a : Bool) → not a ≡ true → a ≡ false
not_so true h = absurd (cc h)
not_so false h = refl

module _ (bad : Level → Text → Bool) (R : Take → Tree → Tree → Type 0) where
  mutual
    pub close_self : (a : Tree) (t : Take) → avoids bad t a ≡ true → Close bad R t a a
    close_self (node k l fs) t h =
        let b1 : Bool = not (is_bad bad t.need.level k l.texts) in
        let b3 : Bool = all_good bad (names_of_all (own_names k fs)) in
        let b4 : Bool = avoids_fields bad (takes_of t k l.texts l.flags) fs in
        let r : (b3 && b4) ≡ true = both_right b1 (b3 && b4) h in
        within (not_so (is_bad bad t.need.level k l.texts) (both_left b1 (b3 && b4) h)) refl refl refl refl refl (both_left b3 b4 r) (close_fields fs (takes_of t k l.texts l.flags) (both_right b3 b4 r))

    pub close_fields : (fs : Fields) (g : ℕ → Take) → avoids_fields bad g fs ≡ true → CloseFields bad R g fs fs
    close_fields done g h = close_done
    close_fields (f then fs) g h = close_then (close_field f (g zero) (both_left (avoids_field bad (g zero) f) (avoids_fields bad (λ i. g (suc i)) fs) h)) (close_fields fs (λ i. g (suc i)) (both_right (avoids_field bad (g zero) f) (avoids_fields bad (λ i. g (suc i)) fs) h))

    pub close_field : (f : Field) (t : Take) → avoids_field bad t f ≡ true → CloseField bad R t f f
    close_field missing t h = close_missing
    close_field (one a) t h = close_one (close_self a t h)
    close_field (many ts) t h = close_many (close_trees ts t h)
    close_field (statements ts) t h = close_statements (close_trees ts t h)

    pub close_trees : (ts : Trees) (t : Take) → avoids_trees bad t ts ≡ true → CloseTrees bad R t ts ts
    close_trees empty t h = close_empty
    close_trees (a before ts) t h = close_before (close_self a t (both_left (avoids bad t a) (avoids_trees bad t ts) h)) (close_trees ts t (both_right (avoids bad t a) (avoids_trees bad t ts) h))
