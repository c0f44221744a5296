-- A declarator that becomes several: what is asked of its computation and of theirs, one after another.
use Rattle.std.proofs.Common.{◌≡◌, ◌∙◌, refl, sym, ap, List, [], ◌∷◌, ◌++◌}
use Rattle.std.specs.Prelude.{Bool, true, false, codes, bytes_eq}
use Rattle.std.proofs.lemmas.Slice.Eq.{bytes_eq-Decides}
use Rattle.es_tree.specs.Words.{Text}
use Rattle.es_tree.specs.Names.{first_text}
use Rattle.es_tree.specs.Tree.{Label, Trees, empty, ◌before◌}
use Rattle.es_runs.specs.Machine.{Value, M, ◌>>=◌, Cell, set_cell, with_cell}
use Rattle.es_runs.specs.Machine.Cell.{holds}
use Rattle.es_runs.specs.Machine.State.{state}
use Rattle.es_runs.specs.Core.{Meaning, World, declared, gives_value, name, value}
use Rattle.es_runs.specs.Alike.{Frame, Alike, Equal, SameWorld, bad_names}
use Rattle.es_runs.specs.Alike.Agree.{agree}
use Rattle.es_runs.proofs.Congruence.{plain_like}
use Rattle.es_runs.proofs.Lists.{declared_alike}
use Rattle.es_runs.proofs.Temporary.{bytes_eq-self}
use Rattle.es_statement_runs.specs.Alike.{MoreLike, Quiet, SenseLike, SensesLike, StackSeen}
use Rattle.es_statement_runs.specs.Alike.MoreLike.{same_nothing}
use Rattle.es_statement_runs.specs.Alike.SensesLike.{no_sense, sense_and}
use Rattle.es_statement_runs.specs.Helpers.{Supply}
use Rattle.es_statement_runs.specs.Kinds.{sense, senses}
use Rattle.es_statement_runs.specs.Laws.{declaration_of, followed}
use Rattle.es_statement_runs.specs.Places.{SupplySeen, Take, avoids_trees, placed_at}
use Rattle.es_statement_runs.specs.Senses.{Sense, cores}
use Rattle.es_statement_runs.specs.Senses.More.{nothing_more}
use Rattle.es_statement_runs.specs.StatementParts.{first_more}
use Rattle.es_statement_runs.proofs.BareVars.{Unsaid}
use Rattle.es_statement_runs.proofs.SensesAlike.{cores_like}
use Rattle.es_split_runs.specs.Laws.{declarators_taken}
use Rattle.es_split_runs.proofs.Declarators.{alike_by, as_values, cores_followed, declared_then, declared_turns, in_turn, is_bound, read_bound}
use Rattle.es_split_runs.proofs.Parts.{parts_like}

module _ (F : Frame) (x : Text) (hidden_x : F.hidden x ≡ true) (soft_x : F.frozen x ≡ false) (fit : (c : Text → Cell) (y : Text) (d : Cell) → F.fits c y d) (v : World) (bound : is_bound (v.scope x) ≡ true) where
  not_x : (f : Text → Bool) (b : Bool) → f x ≡ b → (y : Text) (c : Bool) → f y ≡ c → (b ≡ c → ⊥) → bytes_eq y x ≡ false
  not_x f b e y c g apart = at (bytes_eq y x) refl
    where
      at : (z : Bool) → bytes_eq y x ≡ z → z ≡ false
      at false i = refl
      at true i = let j : y ≡ x = (bytes_eq-Decides y x).0 i in absurd (apart (sym e ∙ (sym (ap f j) ∙ g)))

  here : (u : Value) (d : Text → Cell) → with_cell x u d x ≡ holds u
  here u d = rw (bytes_eq-self x) refl

  -- a value that is stored in a hidden name is read from it
  pub stored : (P Q : Value → M Value) (u : Value) → Alike F Equal (P u) (Q u) → Alike F Equal (P u) (set_cell x u >>= λ _. value v (name x) >>= Q)
  stored P Q u h _ _ (agree {c = c} {d = d} {ms = ms} {qs = qs} f g i) =
      rw (read_bound (v.scope x) x (with_cell x u d) ms qs u bound (here u d)) (h (state c ms qs) (state (with_cell x u d) ms qs)
      (agree (λ y e. rw (not_x F.hidden true hidden_x y false e (λ k. absurd (cc k))) (f y e)) (λ y e. fit c y (with_cell x u d y)) (λ y e. rw (not_x F.frozen false soft_x y true e (λ k. absurd (cc k))) (i y e))))

module _ (F : Frame) (quiet : Quiet F) (stack : StackSeen F) (o : Supply) (seen : SupplySeen F o) (w v : World) (same : SameWorld F.hidden w v) (unsaid : Unsaid F.hidden w v) where
  first_like : (es ds fs gs : List Sense) → SensesLike F w v declarators_taken es ds → first_more fs ≡ nothing_more → first_more gs ≡ nothing_more → MoreLike F (first_more (es ++ fs)) (first_more (ds ++ gs))
  first_like _ _ fs gs no_sense e d = rw (e, d) same_nothing
  first_like _ _ fs gs (sense_and h hs) e d = h.more refl

  senses_followed : (p : Rattle.es_statement_runs.specs.Senses.Place) (xs ys : Trees) → senses p (followed xs ys) ≡ senses p xs ++ senses p ys
  senses_followed p empty ys = refl
  senses_followed p (x before xs) ys = ap (λ (es : List Sense). sense p x ∷ es) (senses_followed p xs ys)

  module _ (a c : Trees) (kind : Text) (avoid_a : avoids_trees (bad_names F.hidden F.frozen) declarators_taken a ≡ true) (avoid_c : avoids_trees (bad_names F.hidden F.frozen) declarators_taken c ≡ true)
      (X Y : Trees) (S : M Value) (Ms : List (M Value))
      (first_cores : cores (senses (placed_at o w [] kind) X) ≡ gives_value S ∷ cores (senses (placed_at o w [] kind) c)) (first_says : first_more (senses (placed_at o w [] kind) X) ≡ nothing_more)
      (second_cores : cores (senses (placed_at o v [] kind) Y) ≡ as_values Ms ++ cores (senses (placed_at o v [] kind) c)) (second_says : first_more (senses (placed_at o v [] kind) Y) ≡ nothing_more)
      (turns : (k l : M Value) → Alike F Equal k l → Alike F Equal (S >>= λ _. k) (in_turn Ms l)) where
    middle : (lets : Bool) → Alike F Equal (declared lets (cores (senses (placed_at o w [] kind) X))) (declared lets (cores (senses (placed_at o v [] kind) Y)))
    middle lets = alike_by F
        (λ s. ap (λ (es : List Meaning). declared lets es s) first_cores ∙ declared_turns lets (S ∷ []) (cores (senses (placed_at o w [] kind) c)) s) (λ t. ap (λ (es : List Meaning). declared lets es t) second_cores ∙ declared_turns lets Ms (cores (senses (placed_at o v [] kind) c)) t)
        (turns _ _ (declared_alike F w v same lets (cores_like F quiet w v same (parts_like F quiet stack o seen w v same unsaid declarators_taken c avoid_c [] kind))))

    whole : (lets : Bool) → Alike F Equal (declared lets (cores (senses (placed_at o w [] kind) (followed a X)))) (declared lets (cores (senses (placed_at o v [] kind) (followed a Y))))
    whole lets = alike_by F (λ s. ap (λ (es : List Meaning). declared lets es s) (cores_followed (placed_at o w [] kind) a X)) (λ t. ap (λ (es : List Meaning). declared lets es t) (cores_followed (placed_at o v [] kind) a Y))
        (declared_then F w v lets (cores_like F quiet w v same (parts_like F quiet stack o seen w v same unsaid declarators_taken a avoid_a [] kind)) _ _ (middle lets))

    says : MoreLike F (first_more (senses (placed_at o w [] kind) (followed a X))) (first_more (senses (placed_at o v [] kind) (followed a Y)))
    says = rw (senses_followed (placed_at o w [] kind) a X, senses_followed (placed_at o v [] kind) a Y)
        (first_like _ _ _ _ (parts_like F quiet stack o seen w v same unsaid declarators_taken a avoid_a [] kind) first_says second_says)

    pub split_like : (t : Take) (m n : Label) → first_text m.texts ≡ kind → n.texts ≡ m.texts → (ls : List Text) (y : Text) →
        SenseLike F w v t (sense (placed_at o w ls y) (declaration_of m (followed a X))) (sense (placed_at o v ls y) (declaration_of n (followed a Y)))
    split_like t m n e d ls y = rw (d, e) (record { core = plain_like F w v same t.need _ _ (whole (bytes_eq kind (codes "let"))); more = λ _. says })
