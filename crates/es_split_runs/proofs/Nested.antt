-- A pattern in a property is bound from a fresh name, before the properties behind it are read.
use Rattle.std.proofs.Common.{◌≡◌, refl, ap, List, [], ◌∷◌, ◌++◌}
use Rattle.std.specs.Prelude.{Bool, true, false, ◌&&◌, ◌||◌, codes, if◌then◌else◌}
use Rattle.std.proofs.lemmas.Slice.Eq.{bytes_eq-Decides}
use Rattle.es_tree.specs.Words.{Text}
use Rattle.es_tree.specs.Names.{first_text, flag_at}
use Rattle.es_tree.specs.Scopes.{Declared}
use Rattle.es_tree.specs.Tree.{Tree, Label, Trees, empty, ◌before◌}
use Rattle.es_runs.specs.Machine.{Value, Values, M, ◌>>=◌, return, set_cell, is_nullish, is_undefined, joined}
use Rattle.es_runs.specs.Machine.Question.{get}
use Rattle.es_runs.specs.Machine.Value.{undefined}
use Rattle.es_runs.specs.Machine.Values.{none}
use Rattle.es_runs.specs.Core.{Meaning, World, gives_value, name, value}
use Rattle.es_runs.specs.Alike.{Alike, Equal, Frame, SameWorld}
use Rattle.es_runs.specs.Alike.Same.{both_give}
use Rattle.es_runs.specs.Runs.{none_hidden, only, program}
use Rattle.es_runs.proofs.Basic.{ask_alike, then_alike}
use Rattle.es_statement_runs.specs.Alike.{Quiet, SenseLike, SensesLike, StackSeen}
use Rattle.es_statement_runs.specs.Helpers.{Supply, silent_names}
use Rattle.es_statement_runs.specs.Kinds.{sense, senses}
use Rattle.es_statement_runs.specs.Laws.{among_names, any_cells, followed, is_silent, object_pattern_at}
use Rattle.es_statement_runs.specs.Patterns.{Putter, members_of, object_pattern, one_value, or_default, property_of}
use Rattle.es_statement_runs.specs.Places.{SupplySeen, Take, avoids, avoids_trees, key_taken, more_taken, placed_at, target_taken, value_taken}
use Rattle.es_statement_runs.specs.Scopes.{is_own_cell}
use Rattle.es_statement_runs.specs.Senses.{Sense, cores, excluded_text, key_value, putter, putter_by, said_in}
use Rattle.es_statement_runs.proofs.BareVars.{Unsaid}
use Rattle.es_statement_runs.proofs.CatchPatterns.{aims_like}
use Rattle.es_statement_runs.proofs.Everywhere.{both_left, both_right}
use Rattle.es_statement_runs.proofs.PatternsAlike.{put_alike_then}
use Rattle.es_statement_runs.proofs.SensesAlike.{key_like}
use Rattle.es_statement_runs.proofs.TopVars.{temporaries_apart}
use Rattle.es_split_runs.specs.Laws.{Behind, FreshNames, LawNested, NestedRow, Properties, ReadAgain, WithName, bad_held, either_name, property_at}
use Rattle.es_split_runs.specs.Laws.Behind.{none_behind, some_behind}
use Rattle.es_split_runs.specs.Laws.NestedRow.{nested_row}
use Rattle.es_split_runs.specs.Laws.WithName.{pattern_alone, with_default}
use Rattle.es_split_runs.proofs.Declarators.{Both, alike_by, and_undefined, as_values, bound_says, in_turn, is_bound, regroup, turns_by, ungroup}
use Rattle.es_split_runs.proofs.Held.{Members, followed_avoids, held, held_quiet, held_stack, held_supply, left_out, members_followed, pattern_then, properties_alike, properties_then, property_then, reads_again, reads_first}
use Rattle.es_split_runs.proofs.KnownNames.{Known, fresh_quiet, fresh_run, fresh_stack}
use Rattle.es_split_runs.proofs.Parts.{part_like, parts_like}
use Rattle.es_split_runs.proofs.Split.{split_like, stored}

-- a putter to a bound name sets it
pub set_putter : (o : Supply) (v : World) (x : Text) → is_bound (v.scope x) ≡ true → putter_by true v (said_in o (v.scope x)) (name x) ≡ return (set_cell x)
set_putter o v x h = rw (bound_says o (v.scope x) h) refl

module _ (xs : List Text) (o : Supply) (math : among_names xs (codes "Math") ≡ false) (apart : (y : Text) → is_own_cell y ≡ true → among_names xs y ≡ false) (supply : SupplySeen (any_cells (among_names xs)) o)
    (w v : World) (same : SameWorld (among_names xs) w v) (unsaid : Unsaid (among_names xs) w v) (s x : Text) (fresh_x : among_names xs x ≡ true) (seen_s : among_names xs s ≡ false) (no_own : is_own_cell s ≡ false)
    (s_bound : is_bound (v.scope s) ≡ true) (x_bound : is_bound (v.scope x) ≡ true) where
  abbrev G : Value → Frame
  G u = held (among_names xs) s u []

  soft_x : only s x ≡ false
  soft_x = at (only s x) refl
    where
      at : (b : Bool) → only s x ≡ b → b ≡ false
      at false e = refl
      at true e = let j : x ≡ s = (bytes_eq-Decides x s).0 e in let k : among_names xs x ≡ among_names xs s = ap (among_names xs) j in absurd (cc)

  quiet_at : (u : Value) → Quiet (G u)
  quiet_at u = held_quiet (among_names xs) s u [] math apart no_own

  stack_at : (u : Value) → StackSeen (G u)
  stack_at u = held_stack (among_names xs) s u [] apart no_own

  abbrev w_ : Tree → Sense
  w_ t = sense (placed_at o w [] []) t

  abbrev v_ : Tree → Sense
  v_ t = sense (placed_at o v [] []) t

  part : (u : Value) (t : Take) (a : Tree) → avoids (bad_held xs s) t a ≡ true → SenseLike (G u) w v t (w_ a) (v_ a)
  part u t a h = part_like (G u) (quiet_at u) (stack_at u) o (held_supply (among_names xs) s u [] o supply) w v same unsaid t a h [] []

  parts : (u : Value) (t : Take) (ts : Trees) → avoids_trees (bad_held xs s) t ts ≡ true → SensesLike (G u) w v t (senses (placed_at o w [] []) ts) (senses (placed_at o v [] []) ts)
  parts u t ts h = parts_like (G u) (quiet_at u) (stack_at u) o (held_supply (among_names xs) s u [] o supply) w v same unsaid t ts h [] []

  keeps : (u : Value) (P Q : Value → M Value) (g : Value) → Alike (G u) Equal (P g) (Q g) → Alike (G u) Equal (P g) (set_cell x g >>= λ z. value v (name x) >>= Q)
  keeps u P Q g h = stored (G u) x fresh_x soft_x (λ c y d k e. absurd (cc e)) v x_bound P Q g h

  module _ (lq : Label) (qs : Trees) where
    abbrev P : Tree
    P = object_pattern_at lq qs

    abbrev First : Value → M Value
    First = object_pattern (Members (placed_at o w [] []) qs)

    abbrev Second : Value → M Value
    Second = object_pattern (Members (placed_at o v [] []) qs)

    -- what a property's value puts, and what it puts with the name in the pattern's place, and then the pattern
    pub record Puts (e f : Tree) : Type 0 where
      pub source : Putter
      pub target : Putter
      pub is_source : putter true w (w_ e) ≡ return source
      pub is_target : putter true v (v_ f) ≡ return target
      pub alike : (u g : Value) → Alike (G u) Equal (source g) (target g >>= λ z. value v (name x) >>= Second)

    pattern_alike : avoids (bad_held xs s) target_taken P ≡ true → (u g : Value) → Alike (G u) Equal (First g) (Second g)
    pattern_alike h u g = put_alike_then (G u) (aims_like ((part u target_taken P h).more refl)) g

    puts : {e f : Tree} → WithName x P e f → avoids (bad_held xs s) target_taken e ≡ true → Puts e f
    puts (pattern_alone i) h = record { source = First; target = set_cell x; is_source = refl; is_target = set_putter o v x x_bound; alike = λ u g. keeps u First Second g (pattern_alike h u g) }
    puts (with_default i l m d) h =
        let a : Bool = avoids (bad_held xs s) target_taken P in
        let b : Bool = avoids (bad_held xs s) value_taken d in
        let default_w : M Value = value w (w_ d).core in
        let default_v : M Value = value v (v_ d).core in
        record {
          source = or_default default_w First;
          target = or_default default_v (set_cell x);
          is_source = refl;
          is_target = ap (λ (m : M Putter). m >>= λ put. return (or_default default_v put)) (set_putter o v x x_bound);
          alike = λ u g. at default_w default_v u g (is_undefined g) (part u value_taken d (both_left b true (both_right a (b && true) h))).core.evaluation (pattern_alike (both_left a (b && true) h) u);
        }
      where
        at : (c d : M Value) (u g : Value) (b : Bool) → Alike (G u) Equal c d → ((g : Value) → Alike (G u) Equal (First g) (Second g)) →
            Alike (G u) Equal (if b then (c >>= First) else First g) ((if b then (d >>= set_cell x) else set_cell x g) >>= λ z. value v (name x) >>= Second)
        at c d u g true h k = regroup (G u) (c >>= First) d (set_cell x) (value v (name x) >>= Second) (then_alike (G u) h (λ z. keeps u First Second z (k z)))
        at c d u g false h k = keeps u First Second g (k g)

    abbrev T2 : M Value
    T2 = value v (name x) >>= Second

    module _ (l : Label) (k e f : Tree) (rs : Trees) (behind : Properties rs) (p : Puts e f) (avoid_k : avoids (bad_held xs s) (key_taken (flag_at 1 l.flags)) k ≡ true) (avoid_rs : avoids_trees (bad_held xs s) more_taken rs ≡ true)
        (N : M Value) (ends : (u : Value) → is_nullish u ≡ false → (ks : Values) → Alike (G u) Both (members_of u ks (Members (placed_at o w [] []) rs)) N) where
      -- the property, the pattern and those behind
      one_then : (u : Value) → is_nullish u ≡ false → (ks ls : Values) →
          Alike (G u) Both (members_of u ks (Members (placed_at o w [] []) (property_at l k e before rs))) (members_of u ls (Members (placed_at o v [] []) (property_at l k f before empty)) >>= λ z. T2 >>= λ z. N)
      one_then u some ks ls =
          let computed = flag_at 1 l.flags in
          let key_w : M Value = key_value w computed (w_ k) in
          let key_v : M Value = key_value v computed (v_ k) in
          let t_w = excluded_text computed (w_ k) in
          let t_v = excluded_text computed (v_ k) in
          let rest_w : Value → M Value = λ j. members_of u (joined ks (one_value j)) (Members (placed_at o w [] []) rs) in
          let rest_v : Value → M Value = λ j. T2 >>= λ z. N in
          let first : M Value = property_of key_v t_v (putter true v (v_ f)) u in
          regroup (G u) (members_of u ks (Members (placed_at o w [] []) (property_at l k e before rs))) first (λ j. return undefined) (T2 >>= λ z. N)
          (alike_by (G u) (property_then key_w t_w (putter true w (w_ e)) u rest_w) (property_then key_v t_v (putter true v (v_ f)) u rest_v)
          (rw (p.is_source, p.is_target) (then_alike (G u) (key_like (G u) (quiet_at u) w v same computed (part u (key_taken computed) k avoid_k))
          (λ j. then_alike (G u) (ask_alike (G u) (get u j)) (λ g. ungroup (G u) (p.source g >>= λ z. rest_w (left_out t_w j)) (p.target g) T2 N (then_alike (G u) (p.alike u g) (λ z. ends u some (joined ks (one_value (left_out t_w j))))))))))

      whole_then : {ps : Trees} → Properties ps → avoids_trees (bad_held xs s) more_taken ps ≡ true → (u : Value) →
          Alike (G u) Both (object_pattern (Members (placed_at o w [] []) (followed ps (property_at l k e before rs))) u) (object_pattern (Members (placed_at o v [] []) (followed ps (property_at l k f before empty))) u >>= λ z. T2 >>= λ z. N)
      whole_then {ps} h avoid u =
          rw (members_followed (placed_at o w [] []) ps (property_at l k e before rs), members_followed (placed_at o v [] []) ps (property_at l k f before empty))
          (pattern_then (G u) u (Members (placed_at o w [] []) ps ++ Members (placed_at o w [] []) (property_at l k e before rs)) (Members (placed_at o v [] []) ps ++ Members (placed_at o v [] []) (property_at l k f before empty)) (T2 >>= λ z. N) (λ some. properties_then (G u) w v o u (T2 >>= λ z. N) (Members (placed_at o w [] []) (property_at l k e before rs)) (Members (placed_at o v [] []) (property_at l k f before empty)) (one_then u some) h (parts u more_taken ps avoid) none none))

      -- what the declarator does, and what the three do, or the two
      pub declarators_then : {ps : Trees} → Properties ps → avoids_trees (bad_held xs s) more_taken ps ≡ true →
          Alike (any_cells (among_names xs)) Both (value w (name s) >>= object_pattern (Members (placed_at o w [] []) (followed ps (property_at l k e before rs))))
          ((value v (name s) >>= object_pattern (Members (placed_at o v [] []) (followed ps (property_at l k f before empty)))) >>= λ z. T2 >>= λ z. N)
      declarators_then h avoid = reads_first (among_names xs) s seen_s v s_bound w same _ _ (T2 >>= λ z. N) (whole_then h avoid)

    -- those behind
    abbrev pub behind_turns : {rs bs : Trees} → Behind s rs bs → List (M Value)
    behind_turns none_behind = []
    behind_turns (some_behind i d l rs) = (value v (name s) >>= object_pattern (Members (placed_at o v [] []) rs)) ∷ []

    behind_cores : {rs bs : Trees} (kind : Text) (c : Trees) (h : Behind s rs bs) → cores (senses (placed_at o v [] kind) (followed bs c)) ≡ as_values (behind_turns h) ++ cores (senses (placed_at o v [] kind) c)
    behind_cores kind c none_behind = refl
    behind_cores kind c (some_behind i d l rs) = refl

    behind_alike : {rs bs : Trees} (h : Behind s rs bs) → Properties rs → avoids_trees (bad_held xs s) more_taken rs ≡ true → (u : Value) → is_nullish u ≡ false → (ks : Values) → Alike (G u) Both (members_of u ks (Members (placed_at o w [] []) rs)) (in_turn (behind_turns h) (return undefined))
    behind_alike none_behind props avoid u some ks = λ i j g. both_give tt g
    behind_alike (some_behind i d l rs) props avoid u some ks =
        and_undefined (G u) (reads_again (among_names xs) s u [] v s_bound {R = Both} (members_of u ks (Members (placed_at o w [] []) rs)) (object_pattern (Members (placed_at o v [] []) rs))
        (rw some (properties_alike (G u) w v o u props (parts u more_taken rs avoid) ks none)))

    abbrev pub Declarators : {rs bs : Trees} → Label → Tree → Tree → Trees → Behind s rs bs → List (M Value)
    Declarators l k f ps h = (value v (name s) >>= object_pattern (Members (placed_at o v [] []) (followed ps (property_at l k f before empty)))) ∷ T2 ∷ behind_turns h

    pub nested_turns : (l : Label) (k e f : Tree) {ps rs bs : Trees} → Properties ps → Properties rs → WithName x P e f → (h : Behind s rs bs) → (lp : Label) → avoids (bad_held xs s) target_taken (object_pattern_at lp (followed ps (property_at l k e before rs))) ≡ true →
        (i j : M Value) → Alike (any_cells (among_names xs)) Equal i j →
        Alike (any_cells (among_names xs)) Equal ((value w (name s) >>= object_pattern (Members (placed_at o w [] []) (followed ps (property_at l k e before rs)))) >>= λ z. i) (in_turn (Declarators l k f ps h) j)
    nested_turns l k e f {ps} {rs} props later named h lp avoid =
        let bad = bad_held xs s in
        let all = followed_avoids bad more_taken ps (property_at l k e before rs) (both_left (avoids_trees bad more_taken (followed ps (property_at l k e before rs))) true avoid) in
        let K = avoids bad (key_taken (flag_at 1 l.flags)) k in
        let E = avoids bad target_taken e in
        let one = both_left (K && (E && true)) (avoids_trees bad more_taken rs) all.1 in
        let rest = both_right (K && (E && true)) (avoids_trees bad more_taken rs) all.1 in
        turns_by (any_cells (among_names xs)) (Declarators l k f ps h)
        (declarators_then l k e f rs later (puts named (both_left E true (both_right K (E && true) one))) (both_left K (E && true) one) rest (in_turn (behind_turns h) (return undefined)) (behind_alike h later rest) props all.0)

pub or_told : (a b : Bool) → b ≡ true → (a || b) ≡ true
or_told true b h = refl
or_told false b h = h

module _ (u : Supply) (xs ss : List Text) {l : Label} {ds body after : Trees} (fresh : FreshNames u xs l ds body after) (again : ReadAgain u xs ss l ds body) where
  pub nested_like : (es : List Declared) (t : Take) (a b : Tree) → NestedRow xs ss es t a b → (w v : World) → SameWorld (among_names xs) w v → Known (either_name xs ss) none_hidden xs es w v → (ls : List Text) (y : Text) →
      SenseLike (any_cells (among_names xs)) w v t (sense (placed_at u w ls y) a) (sense (placed_at u v ls y) b)
  nested_like es t _ _ (nested_row {m = m} {o = o} d n j lp lf lq l ms ns is s x a ps qs k e f rs bs c texts not_using fresh_x x_declared s_read s_declared props later named behind avoid_a avoid avoid_c) w v same known ls y =
      let q = fresh_quiet (among_names xs) none_hidden xs fresh in
      let st = fresh_stack (among_names xs) none_hidden xs fresh in
      let of_s = again s s_read in
      let apart : (z : Text) → is_own_cell z ≡ true → among_names xs z ≡ false = λ z i. temporaries_apart xs fresh.program_names z i in
      let x_bound : is_bound (v.scope x) ≡ true = known.1 x (rw fresh_x refl) x_declared in
      let s_bound : is_bound (v.scope s) ≡ true = known.1 s (or_told (among_names xs s) (among_names ss s) s_read) s_declared in
      let pv = placed_at u v [] (first_text m.texts) in
      let first : M Value = value v (name s) >>= object_pattern (Members (placed_at u v [] []) (followed ps (property_at l k f before empty))) in
      let second : M Value = value v (name x) >>= object_pattern (Members (placed_at u v [] []) qs) in
      split_like (any_cells (among_names xs)) q st u fresh.supply w v same known.0 a c (first_text m.texts) avoid_a avoid_c _ _
      (value w (name s) >>= object_pattern (Members (placed_at u w [] []) (followed ps (property_at l k e before rs))))
      (Declarators xs u fresh.math apart fresh.supply w v same known.0 s x fresh_x of_s.0 of_s.1 s_bound x_bound lq qs l k f ps behind) refl refl
      (ap (λ (zs : List Meaning). gives_value first ∷ gives_value second ∷ zs) (behind_cores xs u fresh.math apart fresh.supply w v same known.0 s x fresh_x of_s.0 of_s.1 s_bound x_bound lq qs (first_text m.texts) c behind)) refl
      (nested_turns xs u fresh.math apart fresh.supply w v same known.0 s x fresh_x of_s.0 of_s.1 s_bound x_bound lq qs l k e f props later named behind lp avoid) t m o refl texts ls y

pub either_unsilent : (u : Supply) (xs ss : List Text) {l : Label} {ds body after : Trees} → FreshNames u xs l ds body after → ReadAgain u xs ss l ds body → (y : Text) → either_name xs ss y ≡ true → is_silent (silent_names u (program l ds body)) y ≡ false
either_unsilent u xs ss {l} {ds} {body} fresh again y h = at (among_names xs y) refl h
  where
    at : (b : Bool) → among_names xs y ≡ b → (b || among_names ss y) ≡ true → is_silent (silent_names u (program l ds body)) y ≡ false
    at true e k = fresh.unsilent y e
    at false e k = (again y k).2

pub law_nested_proof : LawNested
law_nested_proof u xs ss l ds body after rows fresh again = fresh_run (either_name xs ss) none_hidden xs u l ds body after (NestedRow xs ss) fresh (nested_like u xs ss fresh again) (either_unsilent u xs ss fresh again) (λ y e. absurd (cc e)) rows
