-- A rest is taken behind the groups of its properties: it leaves out what their keys gave, which fresh names hold until then.
use Rattle.std.proofs.Common.{◌≡◌, ◌∙◌, refl, sym, subst, ap, List, [], ◌∷◌, ◌++◌}
use Rattle.std.specs.Prelude.{Bool, true, false, ◌&&◌, ◌||◌, Option, Some, None, bytes_eq, codes, if◌then◌else◌}
use Rattle.std.proofs.lemmas.Slice.Eq.{bytes_eq-Decides}
use Rattle.es_tree.specs.Words.{Text}
use Rattle.es_tree.specs.Names.{first_text, flag_at}
use Rattle.es_tree.specs.Scopes.{Declared}
use Rattle.es_tree.specs.Tree.{Tree, Label, Trees, node, done, ◌then◌, one, empty, ◌before◌}
use Rattle.es_tree.specs.declared.ast_type.AstType.TheVariants.{RestElement}
use Rattle.es_runs.specs.Machine.{Value, Values, Cell, M, Stop, Move, Question, State, Result, ◌>>=◌, onward, return, set_cell, is_nullish, joined}
use Rattle.es_runs.specs.Machine.Cell.{holds, unset}
use Rattle.es_runs.specs.Machine.OwnValue.{pattern_error}
use Rattle.es_runs.specs.Machine.Result.{stops}
use Rattle.es_runs.specs.Machine.State.{state}
use Rattle.es_runs.specs.Machine.Stop.{faults, throws}
use Rattle.es_runs.specs.Machine.Value.{own, text, undefined, unset_error}
use Rattle.es_runs.specs.Machine.Values.{none}
use Rattle.es_runs.specs.Core.{Meaning, World, declarator, gives_value, is_free, name, value}
use Rattle.es_runs.specs.Alike.{Alike, Equal, Frame, Same, SameWorld}
use Rattle.es_runs.specs.Alike.Agree.{agree}
use Rattle.es_runs.specs.Alike.Same.{both_give, both_stop, outside, at_fault}
use Rattle.es_runs.specs.Runs.{identifier, is_declared, none_hidden, only, program}
use Rattle.es_runs.proofs.Basic.{return_alike, set_alike, then_alike}
use Rattle.es_runs.proofs.Temporary.{bytes_eq-self, onward_onward, plain_again}
use Rattle.es_statement_runs.specs.Alike.{Quiet, SenseLike, StackSeen}
use Rattle.es_statement_runs.specs.Helpers.{Supply, silent_names}
use Rattle.es_statement_runs.specs.Helpers.Supply.{by_global}
use Rattle.es_statement_runs.specs.Kinds.{sense, senses, portions}
use Rattle.es_statement_runs.specs.Laws.{all_keyed, among_names, any_cells, declares_from, followed, group_keys, is_silent}
use Rattle.es_statement_runs.specs.Names.{is_word, top_in}
use Rattle.es_statement_runs.specs.Patterns.{Member, Putter, members_of, object_pattern, one_value, property_of, rest_of}
use Rattle.es_statement_runs.specs.Patterns.Member.{keyed, remaining}
use Rattle.es_statement_runs.specs.Places.{SupplySeen, Take, avoids, avoids_trees, key_taken, more_taken, placed_at, target_taken}
use Rattle.es_statement_runs.specs.Scopes.{is_own_cell}
use Rattle.es_statement_runs.specs.Senses.{Sense, cores, excluded_text, key_items, key_of, key_value, literal_key, putter, said_in, with_key}
use Rattle.es_statement_runs.specs.Senses.More.{nothing_more}
use Rattle.es_statement_runs.specs.StatementParts.{first_more}
use Rattle.es_statement_runs.proofs.BareVars.{Unsaid}
use Rattle.es_statement_runs.proofs.Everywhere.{both_left, both_right}
use Rattle.es_statement_runs.proofs.Kernels.{law_groups_proof}
use Rattle.es_statement_runs.proofs.PatternsAlike.{property_alike, rest_alike}
use Rattle.es_statement_runs.proofs.SensesAlike.{putter_like}
use Rattle.es_statement_runs.proofs.Spreads.{calls_helper, helpers_}
use Rattle.es_statement_runs.proofs.TopVars.{temporaries_apart}
use Rattle.es_split_runs.specs.Laws.{FreshNames, Groups, Key, KeyedRow, LawKeyed, LawTaken, ReadAgain, TakenRow, bad_held, either_name, key_trees, left_call, property_at, some_name}
use Rattle.es_split_runs.specs.Laws.Groups.{known_key, last_group, read_key}
use Rattle.es_split_runs.specs.Laws.Key.{name_key, text_key}
use Rattle.es_split_runs.specs.Laws.KeyedRow.{keyed_row}
use Rattle.es_split_runs.specs.Laws.TakenRow.{taken_row}
use Rattle.es_split_runs.proofs.Declarators.{Both, alike_by, and_undefined, as_values, bound_says, in_turn, is_bound, named_core, read_bound, read_unset, turns_by}
use Rattle.es_split_runs.proofs.Held.{Members, enters, held, held_quiet, held_stack, held_supply, member_same, members_followed, reads_again, soft, value_of}
use Rattle.es_split_runs.proofs.KeyGroups.{Gives, IsFirst, Leads, Yields, gives_name, gives_text, group_alike_later, group_ends, joined_assoc, key_yields, keyed_later, leads_by, leads_set, property_key, readers, reads_name, text_yields, then_leads, then_leads_equal, yields_alike}
use Rattle.es_split_runs.proofs.KnownNames.{Known, fresh_quiet, fresh_run, fresh_stack}
use Rattle.es_split_runs.proofs.Nested.{either_unsilent, or_told, set_putter}
use Rattle.es_split_runs.proofs.Parts.{part_like}
use Rattle.es_split_runs.proofs.Split.{split_like}

first_undefined : (F : Frame) (x : Values) {m n : M Values} → Alike F (IsFirst x) m n → Alike F (IsFirst x) m (n >>= λ z. return undefined)
first_undefined F x h s t g = at (h s t g)
  where
    at : {r q : Result Values} → Same F (IsFirst x) r q → Same F (IsFirst x) r (onward q (λ z. return undefined))
    at (both_give e i) = both_give e i
    at (both_stop i) = both_stop i
    at outside = outside
    at (at_fault e) = at_fault e

no_later : {A : Type 0} (ks : List A) → ks ++ [] ≡ ks
no_later [] = refl
no_later {A} (k ∷ ks) = ap (λ (js : List A). k ∷ js) (no_later ks)

one_earlier : {A : Type 0} (ks : List A) (k : A) (js : List A) → ks ++ (k ∷ js) ≡ (ks ++ (k ∷ [])) ++ js
one_earlier [] k js = refl
one_earlier {A} (j ∷ ks) k js = ap (λ (is : List A). j ∷ is) (one_earlier ks k js)

keyed_end : (fs : List Putter) (f : Putter) → all_keyed (fs ++ (f ∷ [])) ≡ all_keyed fs ++ (keyed f ∷ [])
keyed_end [] f = refl
keyed_end (g ∷ fs) f = ap (λ (ms : List Member). keyed g ∷ ms) (keyed_end fs f)

or_so : (a b : Bool) → b ≡ true → (a || b) ≡ true
or_so true b h = refl
or_so false b h = h

-- names of which nothing is known, and another of which something is from now on
still_new : (known : List (Text × Value)) (x : Text) (j : Value) (ys : List Text) → ((y : Text) → (bytes_eq y x || among_names ys y) ≡ true → value_of known y ≡ None) → among_names ys x ≡ false → (y : Text) → among_names ys y ≡ true → value_of ((x, j) ∷ known) y ≡ None
still_new known x j ys new later y h = at (bytes_eq y x) refl (new y (or_so (bytes_eq y x) (among_names ys y) h))
  where
    at : (b : Bool) → bytes_eq y x ≡ b → value_of known y ≡ None → (if b then Some j else value_of known y) ≡ None
    at true e k = let i : y ≡ x = (bytes_eq-Decides y x).0 e in let g : among_names ys y ≡ among_names ys x = ap (among_names ys) i in absurd (cc)
    at false e k = k

module _ (xs : List Text) (s : Text) (v : World) where
  -- names of keys are bound
  data AllBound : List Key → Type 0 where
    none_bound : AllBound []
    text_bound : {t : Text} {ks : List Key} → AllBound ks → AllBound (text_key t ∷ ks)
    name_bound : {x : Text} {ks : List Key} → is_bound (v.scope x) ≡ true → AllBound ks → AllBound (name_key x ∷ ks)

  named_key : (x : Text) → is_bound (v.scope x) ≡ true → key_of v (said_in by_global (v.scope x)) (name x).form (name x) ≡ Some (value v (name x))
  named_key x h = rw (bound_says by_global (v.scope x) h) refl

  keys_items : (u : Value) {ks : List Key} → AllBound ks → key_items v (portions (λ i. placed_at by_global v [] []) (key_trees ks)) ≡ Some (group_keys u (readers (among_names xs) s u v ks))
  keys_items u none_bound = refl
  keys_items u (text_bound {t = t} h) = ap (with_key (Some (return (text t)))) (keys_items u h)
  keys_items u (name_bound {x = x} {ks = ks} b h) = ap (λ k. with_key k (key_items v (portions (λ i. placed_at by_global v [] []) (key_trees ks)))) (named_key x b) ∙ ap (with_key (Some (value v (name x)))) (keys_items u h)

  abbrev Call : Bool → List Key → M Value
  Call b all = value v (sense (placed_at by_global v [] []) (left_call b s all)).core

  call_runs : (free : is_free (v.scope helpers_) ≡ true) (u : Value) (b : Bool) (all : List Key) → AllBound all → (st : State) → Call b all st ≡ (value v (name s) >>= λ z. group_keys u (readers (among_names xs) s u v all) >>= λ ks. rest_of z ks) st
  call_runs free u false all h st = rw (calls_helper (codes "objectWithoutProperties") refl v free, keys_items u h)
      (plain_again v ((value v (name s) >>= λ z. group_keys u (readers (among_names xs) s u v all) >>= λ ks. rest_of z ks) st))
  call_runs free u true all h st = rw (calls_helper (codes "objectWithoutProperties") refl v free, keys_items u h, calls_helper (codes "toPropertyKey") refl v free)
      (plain_again v ((value v (name s) >>= λ z. group_keys u (readers (among_names xs) s u v all) >>= λ ks. rest_of z ks) st))

module _ (xs : List Text) (s r : Text) (v : World) (s_bound : is_bound (v.scope s) ≡ true) (seen_r : among_names xs r ≡ false) (free : is_free (v.scope helpers_) ≡ true) (u : Value) (b : Bool) (all : List Key) (all_bound : AllBound xs s v all) where
  abbrev Last : M Value
  Last = Call xs s v b all >>= set_cell r

  abbrev Rest : List Member
  Rest = remaining (return (set_cell r)) ∷ []

  -- the rest
  last_leads : (known : List (Text × Value)) (us : Values) → Gives (among_names xs) s u v known all us → Leads (among_names xs) s u known Both (members_of u us Rest) (in_turn (Last ∷ []) (return undefined))
  last_leads known us h _ _ (agree {c = c} {d = d} {ms = ms} {qs = qs} f g i) =
      let st : State = state d ms qs in
      let A : Frame = any_cells (among_names xs) in
      let called : Call xs s v b all st ≡ rest_of u us st = call_runs xs s v free u b all all_bound st
      ∙ (ap (λ (x : Result Value). onward x (λ z. group_keys u (readers (among_names xs) s u v all) >>= λ ks. rest_of z ks)) (read_bound (v.scope s) s d ms qs u s_bound (i s (bytes_eq-self s)))
      ∙ ap (λ (x : Result Values). onward x (λ ks. rest_of u ks)) (h (state c ms qs) st (agree f g i))) in
      rw called (and_undefined A (then_alike A (rest_alike A u us) (λ z. set_alike A r seen_r refl z)) (state c ms qs) st (soft (among_names xs) s u known (agree f g i)))

module _ (xs : List Text) (o : Supply) (math : among_names xs (codes "Math") ≡ false) (apart : (y : Text) → is_own_cell y ≡ true → among_names xs y ≡ false) (supply : SupplySeen (any_cells (among_names xs)) o)
    (w v : World) (same : SameWorld (among_names xs) w v) (unsaid : Unsaid (among_names xs) w v) (s : Text) (seen_s : among_names xs s ≡ false) (no_own : is_own_cell s ≡ false) (s_bound : is_bound (v.scope s) ≡ true)
    (es : List Declared) (bound : (y : Text) → among_names xs y ≡ true → is_declared es y ≡ true → is_bound (v.scope y) ≡ true) where
  abbrev K : Value → List (Text × Value) → Frame
  K u known = held (among_names xs) s u known

  abbrev w_ : Tree → Sense
  w_ t = sense (placed_at o w [] []) t

  abbrev v_ : Tree → Sense
  v_ t = sense (placed_at o v [] []) t

  abbrev Mw : Trees → List Member
  Mw ts = Members (placed_at o w [] []) ts

  abbrev Mv : Trees → List Member
  Mv ts = Members (placed_at o v [] []) ts

  quiet_at : (u : Value) (known : List (Text × Value)) → Quiet (K u known)
  quiet_at u known = held_quiet (among_names xs) s u known math apart no_own

  stack_at : (u : Value) (known : List (Text × Value)) → StackSeen (K u known)
  stack_at u known = held_stack (among_names xs) s u known apart no_own

  part : (u : Value) (known : List (Text × Value)) (t : Take) (a : Tree) → avoids (bad_held xs s) t a ≡ true → SenseLike (K u known) w v t (w_ a) (v_ a)
  part u known t a h = part_like (K u known) (quiet_at u known) (stack_at u known) o (held_supply (among_names xs) s u known o supply) w v same unsaid t a h [] []

  soft_by : (x : Text) → among_names xs x ≡ true → only s x ≡ false
  soft_by x fresh_x = at (only s x) refl
    where
      at : (b : Bool) → only s x ≡ b → b ≡ false
      at false e = refl
      at true e = let j : x ≡ s = (bytes_eq-Decides x s).0 e in let k : among_names xs x ≡ among_names xs s = ap (among_names xs) j in absurd (cc)

  -- names that are declared around are bound
  groups_bound : {begun ps ds : Trees} {ks : List Key} {ys : List Text} → Groups o xs es s begun ps ds ks ys → AllBound xs s v ks
  groups_bound (last_group d l begun) = none_bound
  groups_bound (known_key l k e t leaves h) = text_bound (groups_bound h)
  groups_bound (read_key d lb n l begun k e x flags leaves fresh_x new declared h) = name_bound (bound x fresh_x declared) (groups_bound h)

  -- WHAT THE DECLARATORS DO IN TURN

  abbrev Group : Trees → M Value
  Group begun = value v (name s) >>= object_pattern (Mv begun)

  abbrev turns : {begun ps ds : Trees} {ks : List Key} {ys : List Text} → Groups o xs es s begun ps ds ks ys → List (M Value) → List (M Value)
  turns (last_group d l begun) ms = Group begun ∷ ms
  turns (known_key l k e t leaves h) ms = turns h ms
  turns (read_key d lb n l begun k e x flags leaves fresh_x new declared h) ms = Group begun ∷ ((value v (v_ k).core >>= set_cell x) ∷ turns h ms)

  -- where the first one stops, all do
  first_stops : {begun ps ds : Trees} {ks : List Key} {ys : List Text} (h : Groups o xs es s begun ps ds ks ys) (ms : List (M Value)) (l : M Value) (w : Stop) (st : State) → ((ts : Trees) → Group ts st ≡ stops w st) → in_turn (turns h ms) l st ≡ stops w st
  first_stops (last_group d l begun) ms z w st g = ap (λ (x : Result Value). onward x (λ y. in_turn ms z)) (g begun)
  first_stops (known_key l k e t leaves h) ms z w st g = first_stops h ms z w st g
  first_stops (read_key d lb n l begun k e x flags leaves fresh_x new declared h) ms z w st g = ap (λ (y : Result Value). onward y (λ a. in_turn ((value v (v_ k).core >>= set_cell x) ∷ turns h ms) z)) (g begun)

  -- behind the groups, these members do what these computations do in turn, where the keys are left out
  module _ (u : Value) (some : is_nullish u ≡ false) (all : List Key) (Rest : List Member) (Tail : List (M Value))
      (ends : (known : List (Text × Value)) (us : Values) → Gives (among_names xs) s u v known all us → Leads (among_names xs) s u known Both (members_of u us Rest) (in_turn Tail (return undefined))) where
    -- a group, where its properties do what those do
    group_alike : (known : List (Text × Value)) (begun : Trees) (fs gs : List Putter) (us : Values) → Mv begun ≡ all_keyed gs → Alike (K u known) (IsFirst us) (group_keys u fs) (group_keys u gs) → Alike (K u known) (IsFirst us) (group_keys u fs) (Group begun)
    group_alike known begun fs gs us e h = reads_again (among_names xs) s u known v s_bound (group_keys u fs) (object_pattern (Mv begun))
        (rw some (alike_by (K u known) (λ st. refl) (λ st. ap (λ (ms : List Member). members_of u none ms st) e ∙ group_ends u none gs st) (first_undefined (K u known) us h)))

    source_text : (l : Label) (k e : Tree) (t : Text) → excluded_text (flag_at 1 l.flags) (w_ k) ≡ Some t → (st : State) → Yields (text t) (property_of (key_value w (flag_at 1 l.flags) (w_ k)) (excluded_text (flag_at 1 l.flags) (w_ k)) (putter true w (w_ e)) u st)
    source_text l k e t h st = subst (λ (o : Option Text). Yields (text t) (property_of (key_value w (flag_at 1 l.flags) (w_ k)) o (putter true w (w_ e)) u st)) (sym h) (text_yields (key_value w (flag_at 1 l.flags) (w_ k)) t (putter true w (w_ e)) u st)

    abbrev prop_w : Label → Tree → Tree → Putter
    prop_w l k e = property_of (key_value w (flag_at 1 l.flags) (w_ k)) (excluded_text (flag_at 1 l.flags) (w_ k)) (putter true w (w_ e))

    -- the property with the name of its key
    named_member : (l : Label) (e : Tree) (x : Text) → flag_at 1 l.flags ≡ true → is_bound (v.scope x) ≡ true → Mv (property_at l (identifier x) e before empty) ≡ all_keyed (property_of (value v (name x)) None (putter true v (v_ e)) ∷ [])
    named_member l e x flags x_bound =
        let left : excluded_text (flag_at 1 l.flags) (v_ (identifier x)) ≡ None = ap (λ (c : Bool). excluded_text c (v_ (identifier x))) flags ∙ ap literal_key (bound_says o (v.scope x) x_bound) in
        λ c. keyed (property_of (key_value v (flags c) (v_ (identifier x))) (left c) (putter true v (v_ e))) ∷ []

    abbrev key_prop : Tree → Value → Putter
    key_prop e k = property_of (return k) None (putter true w (w_ e))

    -- from the groups begun so far to the end: what was left out is what the keys so far give
    claim : {begun ps ds : Trees} {ks : List Key} {ys : List Text} (h : Groups o xs es s begun ps ds ks ys) → avoids_trees (bad_held xs s) more_taken ps ≡ true → (known : List (Text × Value)) → ((y : Text) → among_names ys y ≡ true → value_of known y ≡ None) →
        (ka : List Key) → all ≡ ka ++ ks → (fs gs : List Putter) (us0 us1 : Values) → Mv begun ≡ all_keyed gs → Alike (K u known) (IsFirst us1) (group_keys u fs) (group_keys u gs) → Gives (among_names xs) s u v known ka (joined us0 us1) →
        Leads (among_names xs) s u known Both (members_of u us0 (all_keyed fs ++ (Mw ps ++ Rest))) (in_turn (turns h Tail) (return undefined))
    claim (last_group d l begun) avoid known new ka keys fs gs us0 us1 e begun_alike given =
        leads_by (among_names xs) s u known {m = group_keys u fs >>= λ us. members_of u (joined us0 us) Rest} {k = Group begun >>= λ z. in_turn Tail (return undefined)} (λ st. law_groups_proof u us0 fs Rest st) (λ st. refl)
        (then_leads (among_names xs) s u known (group_alike known begun fs gs us1 e begun_alike) (λ us z i. rw i (ends known (joined us0 us1) (subst (λ ks. Gives (among_names xs) s u v known ks (joined us0 us1)) (sym (keys ∙ no_later ka)) given))))
    claim (known_key {begun = begun} {ps = ps} {ks = ks} l k e t leaves h) avoid known new ka keys fs gs us0 us1 em begun_alike given =
        let bad = bad_held xs s in
        let p = property_at l k e in
        let f = prop_w l k e in
        let g : Putter = property_of (key_value v (flag_at 1 l.flags) (v_ k)) (excluded_text (flag_at 1 l.flags) (v_ k)) (putter true v (v_ e)) in
        let one_avoids = both_left (avoids bad more_taken p) (avoids_trees bad more_taken ps) avoid in
        let x = text t in
        leads_by (among_names xs) s u known {m = members_of u us0 (all_keyed (fs ++ (f ∷ [])) ++ (Mw ps ++ Rest))} {k = in_turn (turns h Tail) (return undefined)}
        (λ st. sym (ap (λ (ms : List Member). members_of u us0 ms st) (keyed_later fs f (Mw ps ++ Rest)))) (λ st. refl)
        (claim h (both_right (avoids bad more_taken p) (avoids_trees bad more_taken ps) avoid) known new (ka ++ (text_key t ∷ [])) (keys ∙ one_earlier ka (text_key t) ks) (fs ++ (f ∷ [])) (gs ++ (g ∷ [])) us0 (joined us1 (one_value x))
        (members_followed (placed_at o v [] []) begun (p before empty) ∙ (ap (λ (ms : List Member). ms ++ (keyed g ∷ [])) em ∙ sym (keyed_end gs g)))
        (group_alike_later (K u known) u fs gs us1 f g x begun_alike (yields_alike (K u known) x (source_text l k e t (leaves w)) (member_same ((part u known more_taken p one_avoids).more refl) u)))
        (subst (λ zs. Gives (among_names xs) s u v known (ka ++ (text_key t ∷ [])) zs) (joined_assoc us0 us1 (one_value x)) (gives_text (among_names xs) s u v known ka (joined us0 us1) t given)))
    claim (read_key {ps = ps} {ks = ks} {ys = ys} d lb n l begun k e x flags leaves fresh_x later declared h) avoid known new ka keys fs gs us0 us1 em begun_alike given =
        let bad = bad_held xs s in
        let p = property_at l k e in
        let A = avoids bad (key_taken (flag_at 1 l.flags)) k in
        let B = avoids bad target_taken e in
        let one_avoids = both_left (avoids bad more_taken p) (avoids_trees bad more_taken ps) avoid in
        let k_avoids = subst (λ (c : Bool). avoids bad (key_taken c) k ≡ true) flags (both_left A (B && true) one_avoids) in
        let e_avoids = both_left B true (both_right A (B && true) one_avoids) in
        let x_bound : is_bound (v.scope x) ≡ true = bound x fresh_x declared in
        let key_w : M Value = value w (w_ k).core in
        let key_v : M Value = value v (v_ k).core in
        let ms : List Member = Mw ps ++ Rest in
        let zs : Values = joined us0 us1 in
        let T : M Value = in_turn (turns h Tail) (return undefined) in
        let g : Putter = property_of (value v (name x)) None (putter true v (v_ e)) in
        let new_x : value_of known x ≡ None = new x (rw (bytes_eq-self x) refl) in
        leads_by (among_names xs) s u known {m = group_keys u fs >>= λ us. members_of u (joined us0 us) (keyed (prop_w l k e) ∷ ms)} {k = Group begun >>= λ z. in_turn ((key_v >>= set_cell x) ∷ turns h Tail) (return undefined)}
        (λ st. law_groups_proof u us0 fs (keyed (prop_w l k e) ∷ ms) st) (λ st. refl)
        (then_leads (among_names xs) s u known (group_alike known begun fs gs us1 em begun_alike) (λ us z i. rw i
        (leads_by (among_names xs) s u known {m = key_w >>= λ j. members_of u zs (all_keyed (key_prop e j ∷ []) ++ ms)} {k = key_v >>= λ j. set_cell x j >>= λ z. T}
        (λ st. (λ c. onward (property_of (key_value w (flags c) (w_ k)) (leaves w c) (putter true w (w_ e)) u st) (λ j. members_of u (joined zs (one_value j)) ms)) ∙ property_key key_w (putter true w (w_ e)) u (λ j. members_of u (joined zs (one_value j)) ms) st)
        (λ st. onward_onward (key_v st) (set_cell x) (λ z. T))
        (then_leads_equal (among_names xs) s u known (part u known (key_taken true) k k_avoids).core.evaluation (λ j. leads_set (among_names xs) s u known x j fresh_x (soft_by x fresh_x) (members_of u zs (all_keyed (key_prop e j ∷ []) ++ ms)) T
        (claim h (both_right (avoids bad more_taken p) (avoids_trees bad more_taken ps) avoid) ((x, j) ∷ known) (still_new known x j ys new later) (ka ++ (name_key x ∷ [])) (keys ∙ one_earlier ka (name_key x) ks) (key_prop e j ∷ []) (g ∷ []) zs (one_value j)
        (named_member l e x flags x_bound)
        (group_alike_later (K u ((x, j) ∷ known)) u [] [] none (key_prop e j) g j (λ a b z. both_give refl z) (yields_alike (K u ((x, j) ∷ known)) j (key_yields j (putter true w (w_ e)) u)
        (reads_name (among_names xs) s u ((x, j) ∷ known) x j fresh_x (rw (bytes_eq-self x) refl) v x_bound (key_prop e j u) (λ i. property_of (return i) None (putter true v (v_ e)) u)
        (property_alike (K u ((x, j) ∷ known)) (return_alike (K u ((x, j) ∷ known)) j) None (putter_like (K u ((x, j) ∷ known)) (quiet_at u ((x, j) ∷ known)) w v same true (part u ((x, j) ∷ known) target_taken e e_avoids)) u))))
        (gives_name (among_names xs) s u v known ka zs x j fresh_x (soft_by x fresh_x) x_bound new_x given)))))))

  -- THE ROW'S TURNS

  module _ {ps ds : Trees} {ks : List Key} {ys : List Text} (h : Groups o xs es s empty ps ds ks ys) (avoid : avoids_trees (bad_held xs s) more_taken ps ≡ true) (qs : Trees) (Rest : List Member) (Tail : List (M Value)) (members : Mw qs ≡ Mw ps ++ Rest)
      (ends : (u : Value) (known : List (Text × Value)) (us : Values) → Gives (among_names xs) s u v known ks us → Leads (among_names xs) s u known Both (members_of u us Rest) (in_turn Tail (return undefined))) where
    abbrev pub Turns : List (M Value)
    Turns = turns h Tail

    abbrev Pattern : Value → M Value
    Pattern = object_pattern (Mw qs)

    abbrev Source : M Value
    Source = value w (name s) >>= Pattern

    taken_from : (c d : Text → Cell) (ms : List Move) (qs : List Question) → ((y : Text) → among_names xs y ≡ false → d y ≡ c y) → (z : Cell) → c s ≡ z →
        Same (any_cells (among_names xs)) Both (Source (state c ms qs)) (in_turn Turns (return undefined) (state d ms qs))
    taken_from c d ms qs f unset e =
        rw (
          read_unset (w.scope s) s c ms qs (ap is_bound (sym (same.scope s seen_s)) ∙ s_bound) e,
          first_stops h Tail (return undefined) (faults (unset_error s)) (state d ms qs) (λ ts. ap (λ (x : Result Value). onward x (object_pattern (Mv ts))) (read_unset (v.scope s) s d ms qs s_bound (f s seen_s ∙ e))),
        )
        (both_stop (agree f (λ y i. tt) (λ y i. tt)))
    taken_from c d ms qs f (holds u) e = rw (read_bound (w.scope s) s c ms qs u (ap is_bound (sym (same.scope s seen_s)) ∙ s_bound) e) (at (is_nullish u) refl)
      where
        reads : (ts : Trees) → Group ts (state d ms qs) ≡ object_pattern (Mv ts) u (state d ms qs)
        reads ts = ap (λ (x : Result Value). onward x (object_pattern (Mv ts))) (read_bound (v.scope s) s d ms qs u s_bound (f s seen_s ∙ e))

        throws_there : is_nullish u ≡ true → (ts : Trees) → object_pattern (Mv ts) u (state d ms qs) ≡ stops (throws (own pattern_error)) (state d ms qs)
        throws_there i ts = rw i refl

        at : (b : Bool) → is_nullish u ≡ b → Same (any_cells (among_names xs)) Both (Pattern u (state c ms qs)) (in_turn Turns (return undefined) (state d ms qs))
        at true i = rw (first_stops h Tail (return undefined) (throws (own pattern_error)) (state d ms qs) (λ ts. reads ts ∙ throws_there i ts), i) (both_stop (agree f (λ y j. tt) (λ y j. tt)))
        at false i = rw (i, members) (claim u i ks Rest Tail (ends u) h avoid [] (λ y j. refl) [] refl [] [] none none refl (λ a b g. both_give refl g) (λ a b g. refl)
            (state c ms qs) (state d ms qs) (enters (among_names xs) s u seen_s c d ms qs e f))

    taken_alike : Alike (any_cells (among_names xs)) Both (Source) (in_turn Turns (return undefined))
    taken_alike _ _ (agree {c = c} {d = d} {ms = ms} {qs = qs} f g i) = taken_from c d ms qs f (c s) refl

    pub taken_turns : (k l : M Value) → Alike (any_cells (among_names xs)) Equal k l → Alike (any_cells (among_names xs)) Equal (Source >>= λ z. k) (in_turn Turns l)
    taken_turns = turns_by (any_cells (among_names xs)) Turns taken_alike

  -- THE DECLARATORS

  named_declarator : (kind : Text) (n : Label) (x : Text) (k : Tree) → is_word (codes "using") kind ≡ false → is_bound (v.scope x) ≡ true →
      (sense (placed_at o v [] kind) (declares_from n (identifier x) k)).core ≡ gives_value (value v (v_ k).core >>= set_cell x)
  named_declarator kind n x k not_using x_bound = named_core (placed_at o v [] kind) (said_in o (v.scope x)) (v_ (identifier x)) (v_ k) (declarator v (name x) (v_ k).core) (bound_says o (v.scope x) x_bound) not_using

  declarators_cores : (kind : Text) → is_word (codes "using") kind ≡ false → {begun ps ds : Trees} {ks : List Key} {ys : List Text} (h : Groups o xs es s begun ps ds ks ys) (ms : List (M Value)) (c e : Trees) →
      cores (senses (placed_at o v [] kind) e) ≡ as_values ms ++ cores (senses (placed_at o v [] kind) c) → cores (senses (placed_at o v [] kind) (followed ds e)) ≡ as_values (turns h ms) ++ cores (senses (placed_at o v [] kind) c)
  declarators_cores kind not_using (last_group d l begun) ms c e g = ap (λ (zs : List Meaning). gives_value (Group begun) ∷ zs) g
  declarators_cores kind not_using (known_key l k e t leaves h) ms c i g = declarators_cores kind not_using h ms c i g
  declarators_cores kind not_using (read_key d lb n l begun k e x flags leaves fresh_x later declared h) ms c i g =
      λ z. gives_value (Group begun) ∷ (named_declarator kind n x k not_using (bound x fresh_x declared) z ∷ declarators_cores kind not_using h ms c i g z)

  declarators_say : (kind : Text) {begun ps ds : Trees} {ks : List Key} {ys : List Text} (h : Groups o xs es s begun ps ds ks ys) (e : Trees) → first_more (senses (placed_at o v [] kind) (followed ds e)) ≡ nothing_more
  declarators_say kind (last_group d l begun) e = refl
  declarators_say kind (known_key l k e t leaves h) i = declarators_say kind h i
  declarators_say kind (read_key d lb n l begun k e x flags leaves fresh_x later declared h) i = refl

-- WITHOUT A REST

module _ (u : Supply) (xs ss : List Text) {l : Label} {ds body after : Trees} (fresh : FreshNames u xs l ds body after) (again : ReadAgain u xs ss l ds body) where
  nothing_behind : (s : Text) (v : World) (ks : List Key) (z : Value) (known : List (Text × Value)) (us : Values) → Gives (among_names xs) s z v known ks us → Leads (among_names xs) s z known Both (members_of z us []) (in_turn [] (return undefined))
  nothing_behind s v ks z known us h a b i = both_give tt (soft (among_names xs) s z known i)

  keyed_like : (es : List Declared) (t : Take) (a b : Tree) → KeyedRow u xs ss es t a b → (w v : World) → SameWorld (among_names xs) w v → Known (either_name xs ss) none_hidden xs es w v → (ls : List Text) (y : Text) →
      SenseLike (any_cells (among_names xs)) w v t (sense (placed_at u w ls y) a) (sense (placed_at u v ls y) b)
  keyed_like es t _ _ (keyed_row {m = m} {o = o} d lp s a ps ts c ks ys texts not_using s_read s_declared groups avoid_a avoid avoid_c) w v same known ls y =
      let kind = first_text m.texts in
      let of_s = again s s_read in
      let apart : (z : Text) → is_own_cell z ≡ true → among_names xs z ≡ false = λ z i. temporaries_apart xs fresh.program_names z i in
      let s_bound : is_bound (v.scope s) ≡ true = known.1 s (or_told (among_names xs s) (among_names ss s) s_read) s_declared in
      let bound : (z : Text) → among_names xs z ≡ true → is_declared es z ≡ true → is_bound (v.scope z) ≡ true = λ z i j. known.1 z (rw i refl) j in
      let p_avoids = both_left (avoids_trees (bad_held xs s) more_taken ps) true avoid in
      let members = sym (no_later (Members (placed_at u w [] []) ps)) in
      split_like (any_cells (among_names xs)) (fresh_quiet (either_name xs ss) none_hidden xs fresh) (fresh_stack (either_name xs ss) none_hidden xs fresh) u fresh.supply w v same known.0 a c kind avoid_a avoid_c _ _
      (value w (name s) >>= object_pattern (Members (placed_at u w [] []) ps))
      (Turns xs u fresh.math apart fresh.supply w v same known.0 s of_s.0 of_s.1 s_bound es bound groups p_avoids ps [] [] members (nothing_behind s v ks)) refl refl
      (declarators_cores xs u fresh.math apart fresh.supply w v same known.0 s of_s.0 of_s.1 s_bound es bound kind not_using groups [] c c refl)
      (declarators_say xs u fresh.math apart fresh.supply w v same known.0 s of_s.0 of_s.1 s_bound es bound kind groups c)
      (taken_turns xs u fresh.math apart fresh.supply w v same known.0 s of_s.0 of_s.1 s_bound es bound groups p_avoids ps [] [] members (nothing_behind s v ks)) t m o refl texts ls y

pub law_keyed_proof : LawKeyed
law_keyed_proof u xs ss l ds body after rows fresh again = fresh_run (either_name xs ss) none_hidden xs u l ds body after (KeyedRow u xs ss) fresh (keyed_like u xs ss fresh again) (either_unsilent u xs ss fresh again) (λ y e. absurd (cc e)) rows

-- AND WITH ONE

abbrev rest_of_name : Label → Text → Tree
rest_of_name q r = node RestElement q (one (identifier r) then done)

rest_members : (w : World) (q : Label) (r : Text) (ps : Trees) → is_bound (w.scope r) ≡ true → Members (placed_at by_global w [] []) (followed ps (rest_of_name q r before empty)) ≡ Members (placed_at by_global w [] []) ps ++ (remaining (return (set_cell r)) ∷ [])
rest_members w q r ps h = members_followed (placed_at by_global w [] []) ps (rest_of_name q r before empty) ∙ ap (λ (m : M Putter). Members (placed_at by_global w [] []) ps ++ (remaining m ∷ [])) (set_putter by_global w r h)

module _ (xs ss : List Text) {l : Label} {ds body after : Trees} (fresh : FreshNames by_global xs l ds body after) (again : ReadAgain by_global xs ss l ds body) where
  pub taken_like : (es : List Declared) (t : Take) (a b : Tree) → TakenRow xs ss es t a b → (w v : World) → SameWorld (among_names xs) w v → Known (either_name xs ss) (only helpers_) xs es w v → (ls : List Text) (y : Text) →
      SenseLike (any_cells (among_names xs)) w v t (sense (placed_at by_global w ls y) a) (sense (placed_at by_global v ls y) b)
  taken_like es t _ _ (taken_row {m = m} {o = o} d n lp q s r a ps ts c ks ys texts not_using s_read s_declared r_read r_declared groups avoid_a avoid avoid_c) w v same known ls y =
      let kind = first_text m.texts in
      let of_s = again s s_read in
      let of_r = again r r_read in
      let apart : (z : Text) → is_own_cell z ≡ true → among_names xs z ≡ false = λ z i. temporaries_apart xs fresh.program_names z i in
      let s_bound : is_bound (v.scope s) ≡ true = known.1 s (or_told (among_names xs s) (among_names ss s) s_read) s_declared in
      let r_bound : is_bound (v.scope r) ≡ true = known.1 r (or_told (among_names xs r) (among_names ss r) r_read) r_declared in
      let bound : (z : Text) → among_names xs z ≡ true → is_declared es z ≡ true → is_bound (v.scope z) ≡ true = λ z i j. known.1 z (rw i refl) j in
      let free : is_free (v.scope helpers_) ≡ true = known.2 helpers_ (bytes_eq-self helpers_) in
      let p_avoids = both_left (avoids_trees (bad_held xs s) more_taken ps) true avoid in
      let converts = some_name ys in
      let last : M Value = Call xs s v converts ks >>= set_cell r in
      let qs = followed ps (rest_of_name q r before empty) in
      let members = rest_members w q r ps (ap is_bound (sym (same.scope r of_r.0)) ∙ r_bound) in
      let names = groups_bound xs by_global fresh.math apart fresh.supply w v same known.0 s of_s.0 of_s.1 s_bound es bound groups in
      let ends = λ (z : Value). last_leads xs s r v s_bound of_r.0 free z converts ks names in
      split_like (any_cells (among_names xs)) (fresh_quiet (either_name xs ss) (only helpers_) xs fresh) (fresh_stack (either_name xs ss) (only helpers_) xs fresh) by_global fresh.supply w v same known.0 a c kind avoid_a avoid_c _ _
      (value w (name s) >>= object_pattern (Members (placed_at by_global w [] []) qs))
      (Turns xs by_global fresh.math apart fresh.supply w v same known.0 s of_s.0 of_s.1 s_bound es bound groups p_avoids qs (remaining (return (set_cell r)) ∷ []) (last ∷ []) members ends) refl refl
      (declarators_cores xs by_global fresh.math apart fresh.supply w v same known.0 s of_s.0 of_s.1 s_bound es bound kind not_using groups (last ∷ []) c _
      (ap (λ (z : Meaning). z ∷ cores (senses (placed_at by_global v [] kind) c)) (named_declarator xs by_global fresh.math apart fresh.supply w v same known.0 s of_s.0 of_s.1 s_bound es bound kind n r (left_call converts s ks) not_using r_bound)))
      (declarators_say xs by_global fresh.math apart fresh.supply w v same known.0 s of_s.0 of_s.1 s_bound es bound kind groups _)
      (taken_turns xs by_global fresh.math apart fresh.supply w v same known.0 s of_s.0 of_s.1 s_bound es bound groups p_avoids qs (remaining (return (set_cell r)) ∷ []) (last ∷ []) members ends) t m o refl texts ls y

pub law_taken_proof : LawTaken
law_taken_proof xs ss l ds body after rows fresh again undeclared unsilent =
    fresh_run (either_name xs ss) (only helpers_) xs by_global l ds body after (TakenRow xs ss) fresh (taken_like xs ss fresh again) (either_unsilent by_global xs ss fresh again) (λ y e. of_helpers y ((bytes_eq-Decides y helpers_).0 e)) rows
  where
    of_helpers : (y : Text) → y ≡ helpers_ → (among_names xs y ≡ false) × (is_silent (silent_names by_global (program l ds body)) y ≡ false) × (is_declared (top_in body) y ≡ false)
    of_helpers y e = rw e (fresh.supply.global, unsilent, undeclared)
