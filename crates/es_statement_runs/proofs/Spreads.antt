-- The row of object spread: the definitions of nested calls are those of the literal, in order.
use Rattle.std.proofs.Common.{◌≡◌, refl, sym, subst, List, [], ◌∷◌, ◌++◌, ap, ◌∙◌}
use Rattle.std.specs.Prelude.{Bool, true, false, not, ◌&&◌, Option, Some, None, codes, bytes_eq, if◌then◌else◌}
use Rattle.es_tree.specs.Words.{Text}
use Rattle.es_tree.specs.Scopes.{Declared}
use Rattle.es_tree.specs.Tree.{Tree, Label, Trees, ◌then◌, empty, ◌before◌}
use Rattle.es_runs.specs.Core.{name, member, Binding, World, value, is_free}
use Rattle.es_runs.specs.Core.Form.{word}
use Rattle.es_runs.specs.Core.Binding.{free}
use Rattle.es_runs.specs.Machine.{Value, Values, M, ◌>>=◌, return, joined}
use Rattle.es_runs.specs.Machine.Values.{none}
use Rattle.es_runs.specs.Machine.State.{state}
use Rattle.es_runs.specs.Alike.{Alike, Equal, SameWorld, Level, bad_names}
use Rattle.es_runs.specs.Runs.{program, none_hidden, only, scope_of}
use Rattle.es_runs.proofs.Congruence.{plain_like}
use Rattle.es_runs.proofs.Temporary.{bytes_eq-flip, onward_onward}
use Rattle.es_statement_runs.proofs.Programs.{unsilent_scope, top_scope, top_world, rows_run}
use Rattle.es_statement_runs.specs.Senses.{said_in, Sense, More, definitions_in, is_empty, object_by}
use Rattle.es_statement_runs.specs.Senses.More.{helper_call, object_of, spreads}
use Rattle.es_statement_runs.specs.Calls.{member_by, copied_values}
use Rattle.es_statement_runs.proofs.MoreRows.{told_self, alike_self}
use Rattle.es_statement_runs.specs.Helpers.{Supply, is_helper_text}
use Rattle.es_statement_runs.specs.Helpers.Supply.{by_global, spread_by_global}
use Rattle.es_statement_runs.specs.Patterns.{collected, copied, one_value, made_object}
use Rattle.es_statement_runs.specs.Names.{top_in, names_of_all}
use Rattle.es_statement_runs.specs.Kinds.{sense, senses, found, kind_in}
use Rattle.es_statement_runs.specs.Places.{placed_at, all_good, Take}
use Rattle.es_statement_runs.specs.Alike.{SenseLike}
use Rattle.es_statement_runs.specs.Alike.MoreLike.{same_object}
use Rattle.es_statement_runs.specs.Runs.{start_cells}
use Rattle.es_statement_runs.specs.Laws.{no_frame, nothing_bad, followed, global_helper, spread_call, spread_at, object_at, bare_object, Gathered, SpreadRow, LawSpread}
use Rattle.es_statement_runs.specs.Laws.Gathered.{begin_gathering, one_gathered, more_gathered}
use Rattle.es_statement_runs.specs.Laws.SpreadRow.{spread_last, properties_last}
use Rattle.es_statement_runs.proofs.Kernels.{law_collected_proof}
use Rattle.es_statement_runs.proofs.RunLaws.{same_self, same_states, nothing_quiet, nothing_stack, agree_self, same_world, worlds_equal, SameRest}
use Rattle.es_statement_runs.proofs.KindsAlike.{inner}

-- IN PARTS

joined_parts : (ms ns : List (M Value)) → collected (ms ++ ns) ≡ (collected ms >>= λ us. collected ns >>= λ vs. return (joined us vs))
joined_parts ms ns = λ i s. law_collected_proof ms ns s i

add_none : {A : Type 0} (xs : List A) → xs ++ [] ≡ xs
add_none [] = refl
add_none (x ∷ xs) = ap (λ ys. x ∷ ys) (add_none xs)

module _ (o : Supply) (w : World) where
  abbrev definitions : Trees → List (M Value)
  definitions ps = definitions_in (senses (placed_at o w [] []) ps)

  parts_of : (xs ys : Trees) → definitions (followed xs ys) ≡ definitions xs ++ definitions ys
  parts_of empty ys = refl
  parts_of (x before xs) ys = ap (λ (ms : List (M Value)). Rattle.es_statement_runs.specs.Senses.definition_of (sense (placed_at o w [] []) x).more ∷ ms) (parts_of xs ys)

  -- what a literal with these properties collects, in two parts
  in_parts : (xs ys : Trees) → collected (definitions (followed xs ys)) ≡ (collected (definitions xs) >>= λ us. collected (definitions ys) >>= λ vs. return (joined us vs))
  in_parts xs ys = ap collected (parts_of xs ys) ∙ joined_parts (definitions xs) (definitions ys)

  -- a spread, as the last argument and as the last definition
  spread_alone : (k : Label) (e : Tree) → collected (definitions (spread_at k e before empty)) ≡ copied_values w (sense (placed_at o w [] []) e)
  spread_alone k e = λ i s. onward_onward (value w (sense (placed_at o w [] []) e).core s) (λ v. copied v none) (λ v. return (one_value v)) i

  module _ (calls : (sense (placed_at o w [] []) (global_helper (codes "objectSpread2"))).more ≡ helper_call (codes "objectSpread2")) where
    -- a call is an object literal with what is collected
    abbrev StandsFor : Tree → Trees → Type 0
    StandsFor c ps = sense (placed_at o w [] []) c ≡ object_by false (collected (definitions ps))

    gathered : {ps : Trees} {c : Tree} → Gathered ps c → StandsFor c ps
    gathered (begin_gathering m n k os e flags) = rw (flags, calls) (ap (object_by false) (sym (in_parts os (spread_at k e before empty) ∙ ap (λ (ns : M Values). collected (definitions os) >>= λ us. ns >>= λ vs. return (joined us vs)) (spread_alone k e))))
    gathered (one_gathered m k ps c e flags g) = rw (flags, calls, gathered g) (ap (object_by false) (sym (in_parts ps (spread_at k e before empty) ∙ ap (λ (ns : M Values). collected (definitions ps) >>= λ us. ns >>= λ vs. return (joined us vs)) (spread_alone k e))))
    gathered (more_gathered m n k ps os c e flags g) = rw (flags, calls, gathered g) (ap (object_by false) (sym (in_parts ps (followed os (spread_at k e before empty)) ∙ ap (λ (ns : M Values). collected (definitions ps) >>= λ us. ns >>= λ vs. return (joined us vs))
        (in_parts os (spread_at k e before empty) ∙ ap (λ (ns : M Values). collected (definitions os) >>= λ us. ns >>= λ vs. return (joined us vs)) (spread_alone k e)))))

    -- a list that ends in something isn't empty
    not_empty : (os : Trees) (e : Tree) (ts : Trees) → is_empty (senses (placed_at o w [] []) (followed os (e before ts))) ≡ false
    not_empty empty e ts = refl
    not_empty (x before os) e ts = refl

    gathered_some : {ps : Trees} {c : Tree} → Gathered ps c → is_empty (senses (placed_at o w [] []) ps) ≡ false
    gathered_some (begin_gathering m n k os e flags) = not_empty os (spread_at k e) empty
    gathered_some (one_gathered m k ps c e flags g) = not_empty ps (spread_at k e) empty
    gathered_some (more_gathered m n k empty os c e flags g) = not_empty os (spread_at k e) empty
    gathered_some (more_gathered m n k (x before ps) os c e flags g) = refl

    some_more : (ps os : Trees) → is_empty (senses (placed_at o w [] []) ps) ≡ false → is_empty (senses (placed_at o w [] []) (followed ps os)) ≡ false
    some_more empty os h = absurd (cc h)
    some_more (x before ps) os h = refl

    -- the literal and the calls say and mean the same
    pub same_sense : {t : Take} {a b : Tree} → SpreadRow t a b → (ls : List Text) (x : Text) → (ps : M Values) × ((sense (placed_at o w ls x) a ≡ object_by false ps) × (sense (placed_at o w ls x) b ≡ object_by false ps))
    same_sense (spread_last {ps = ps} {c = c} g) ls x = (collected (definitions ps), (ap (λ (b : Bool). object_by b (collected (definitions ps))) (gathered_some g), placed_anywhere g ls x ∙ gathered g))
      where
        placed_anywhere : {ps : Trees} {c : Tree} → Gathered ps c → (ls : List Text) (x : Text) → sense (placed_at o w ls x) c ≡ sense (placed_at o w [] []) c
        placed_anywhere (begin_gathering m n k os e flags) ls x = refl
        placed_anywhere (one_gathered m k ps c e flags g) ls x = refl
        placed_anywhere (more_gathered m n k ps os c e flags g) ls x = refl
    same_sense (properties_last l m n ps os c flags g) ls x = (collected (definitions (followed ps os)), (ap (λ (b : Bool). object_by b (collected (definitions (followed ps os)))) (some_more ps os (gathered_some g)), made))
      where
        made : sense (placed_at o w ls x) (spread_call m (c before bare_object before object_at n os before empty)) ≡ object_by false (collected (definitions (followed ps os)))
        made = rw (flags, calls, gathered g) (ap (object_by false) (sym (in_parts ps os ∙ ap (λ (ns : M Values). collected (definitions ps) >>= λ us. ns >>= λ vs. return (joined us vs)) (sym (ap collected (add_none (definitions os))) ∙ joined_parts (definitions os) []))))

object_self : (w : World) → SameWorld none_hidden w w → (t : Take) (ms : M Values) → SenseLike no_frame w w t (object_by false ms) (object_by false ms)
object_self w same t ms = record {
  core = plain_like no_frame w w same t.need _ _ (alike_self (ms >>= made_object));
  more = λ _. same_object (values_alike ms);
}
  where
    values_alike : (m : M Values) → Alike no_frame Equal m m
    values_alike m s t g = rw (same_states g) (same_self (m s))

-- A NAME THAT NO SCOPE DECLARES

module _ (z : Text) where
  abbrev pub bad_here : Level → Text → Bool
  bad_here = bad_names none_hidden (only z)

  pub below_here : (n : Level) (x : Text) → bad_here n x ≡ false → nothing_bad n x ≡ false
  below_here n x h = none_bad n
    where
      none_bad : (n : Level) → nothing_bad n x ≡ false
      none_bad Level.no_evaluation = refl
      none_bad _ = refl

  other_name : (b c : Bool) (k : Text) (rest : Option Text) → (not b && c) ≡ true → (c ≡ true → rest ≡ None) → (if b then Some k else rest) ≡ None
  other_name true c k rest h g = absurd (cc h)
  other_name false c k rest h g = g h

  unseen : (ds : List Declared) → all_good bad_here (names_of_all ds) ≡ true → kind_in ds z ≡ None
  unseen [] h = refl
  unseen (d ∷ ds) h = rw (bytes_eq-flip z d.name) (other_name (bytes_eq d.name z) (all_good bad_here (names_of_all ds)) d.kind (kind_in ds z) h (unseen ds))

  pub free_kept : (ds : List Declared) → all_good bad_here (names_of_all ds) ≡ true → (w v : World) → is_free (v.scope z) ≡ true → is_free ((inner v ds).scope z) ≡ true
  free_kept ds h w v k = ap (λ (c : Option Text). is_free (found c z v.scope z)) (unseen ds h) ∙ k

pub not_not : (a : Bool) → not a ≡ false → a ≡ true
not_not true h = refl
not_not false h = absurd (cc h)

abbrev pub helpers_ : Text
helpers_ = codes "babelHelpers"

-- `babelHelpers.NAME` is the helper
pub calls_helper : (x : Text) → is_helper_text x ≡ true → (w : World) → is_free (w.scope helpers_) ≡ true → (sense (placed_at by_global w [] []) (global_helper x)).more ≡ helper_call x
calls_helper x known w k = at (w.scope helpers_) k
  where
    at : (b : Binding) → is_free b ≡ true → (member_by (placed_at by_global w [] []) (said_in by_global b) (word helpers_) (word x) (member w false false (name helpers_) (name x))).more ≡ helper_call x
    at free h = rw (known, k) refl
    at _ h = absurd (cc h)

-- where a program gets that of object spread as a member of it
abbrev pub has_global_spread : Supply → Bool
has_global_spread spread_by_global = true
has_global_spread by_global = true
has_global_spread _ = false

calls_spread : (u : Supply) → has_global_spread u ≡ true → (w : World) → is_free (w.scope helpers_) ≡ true → (sense (placed_at u w [] []) (global_helper (codes "objectSpread2"))).more ≡ helper_call (codes "objectSpread2")
calls_spread spread_by_global h w k = rw k refl
calls_spread by_global h w k = calls_helper (codes "objectSpread2") refl w k
calls_spread _ h w k = absurd (cc h)

module _ (u : Supply) (has : has_global_spread u ≡ true) where
  at_one : (w : World) → is_free (w.scope helpers_) ≡ true → (t : Take) (a b : Tree) → SpreadRow t a b → (ls : List Text) (x : Text) → SenseLike no_frame w w t (sense (placed_at u w ls x) a) (sense (placed_at u w ls x) b)
  at_one w k t a b row ls x = let h = same_sense u w (calls_spread u has w k) row ls x in rw (h.1.0, h.1.1) (object_self w (same_world w) t h.0)

  pub spread_like : (t : Take) (a b : Tree) → SpreadRow t a b → (w v : World) → SameWorld none_hidden w v → (is_free (v.scope helpers_) ≡ true) × SameRest w v → (ls : List Text) (x : Text) → SenseLike no_frame w v t (sense (placed_at u w ls x) a) (sense (placed_at u v ls x) b)
  spread_like t a b row w v same k ls x =
      let here : is_free (w.scope helpers_) ≡ true = ap is_free (sym (same.scope helpers_ refl)) ∙ k.0 in
      subst (λ (z : World). SenseLike no_frame w z t (sense (placed_at u w ls x) a) (sense (placed_at u z ls x) b)) (worlds_equal w v k.1 same) (at_one w here t a b row ls x)

pub law_spread_proof : LawSpread
law_spread_proof l ds body after rows tops uses silents undeclared unsilent =
    rows_run no_frame nothing_quiet nothing_stack (bad_here helpers_) (below_here helpers_) by_global l ds body after [] (told_self (bad_here helpers_) by_global) (λ w v. (is_free (v.scope helpers_) ≡ true) × SameRest w v) (λ ds h w v k. (free_kept helpers_ ds h w v k.0, record { other = k.1.other; spreads = k.1.spreads })) SpreadRow (spread_like by_global refl) rows uses
    (top_world by_global none_hidden (program l ds body) (program l ds after) tops silents)
    (λ this. (ap is_free (top_scope by_global (program l ds body) (program l ds after) tops silents helpers_ ∙ unsilent_scope by_global (program l ds body) helpers_ unsilent) ∙ not_not (is_free (scope_of (top_in body) helpers_)) undeclared, record { other = refl; spreads = refl }))
    (λ n moves. rw tops (agree_self (state (start_cells n (top_in body)) moves []))) (λ x e. refl)
