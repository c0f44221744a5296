-- The row of object rest in a declaration: the name that is read twice holds the same value, since nothing between writes it.
use Rattle.std.proofs.Common.{◌≡◌, ◌∙◌, refl, sym, subst, ap, ℕ, suc, List, [], ◌∷◌, ◌++◌, zero}
use Rattle.std.proofs.lemmas.Bool.{false≢true, true≢false}
use Rattle.std.specs.Prelude.{Bool, true, false, not, Option, Some, None, codes, bytes_eq, if◌then◌else◌}
use Rattle.es_tree.specs.Words.{Text}
use Rattle.es_tree.specs.Names.{flag_at, first_text}
use Rattle.es_tree.specs.Scopes.{Declared}
use Rattle.es_tree.specs.Tree.{Tree, node, Label, done, ◌then◌, one, Trees, empty, ◌before◌, kind_of}
use Rattle.es_tree.specs.declared.ast_type.AstType.TheVariants.{Identifier, StringLiteral, NumericLiteral, BigIntLiteral, RestElement}
use Rattle.es_runs.specs.Machine.{Value, Values, M, ◌>>=◌, return, stop, onward, Result, State, Cell, Move, Question, set_cell, is_nullish}
use Rattle.es_runs.specs.Machine.Cell.{unset, holds}
use Rattle.es_runs.specs.Machine.Result.{gives, stops}
use Rattle.es_runs.specs.Machine.State.{state}
use Rattle.es_runs.specs.Machine.Stop.{faults, throws}
use Rattle.es_runs.specs.Machine.Value.{undefined, text, own, unset_error}
use Rattle.es_runs.specs.Machine.Values.{none, ◌and◌}
use Rattle.es_runs.specs.Machine.OwnValue.{pattern_error}
use Rattle.es_runs.specs.Core.{initialise, World, Binding, Meaning, declarator, name, value, is_free, declared, settle, gives_value, as_plain, read_name}
use Rattle.es_runs.specs.Core.Binding.{free, changeable, constant, silent}
use Rattle.es_runs.specs.Alike.{Frame, Same, Alike, Equal, SameWorld, kept_cells, bad_names}
use Rattle.es_runs.specs.Alike.Agree.{agree}
use Rattle.es_runs.specs.Alike.Same.{both_give}
use Rattle.es_runs.specs.Runs.{program, none_hidden, only, scope_of, identifier, is_declared, binding_of}
use Rattle.es_runs.proofs.Congruence.{plain_like}
use Rattle.es_runs.proofs.Temporary.{bytes_eq-self, plain_again}
use Rattle.es_statement_runs.specs.Alike.{Quiet, StackSeen, SenseLike, Told, MoreLike}
use Rattle.es_statement_runs.specs.Alike.MoreLike.{same_nothing}
use Rattle.es_statement_runs.specs.Helpers.Supply.{by_global}
use Rattle.es_statement_runs.specs.Kinds.{sense, senses, portions, found, kind_in}
use Rattle.es_statement_runs.specs.Stacks.{used}
use Rattle.es_statement_runs.specs.StatementParts.{declarator_by, first_more}
use Rattle.es_statement_runs.specs.Laws.{no_frame, followed, global_helper, object_pattern_at, is_key, key_text, strings, rest_call, bare_rest_call, StaticProperties, Valued, declares_from, RestRow, Rests, LawRest, StaticProperty, static_properties, static_keys, all_keyed}
use Rattle.es_statement_runs.specs.Laws.RestRow.{rest_row, bare_row}
use Rattle.es_statement_runs.specs.Laws.StaticProperties.{no_property, one_property}
use Rattle.es_statement_runs.specs.Laws.Valued.{none_valued, first_valued}
use Rattle.es_statement_runs.specs.Names.{is_word, top_in, names_of_all}
use Rattle.es_statement_runs.specs.Patterns.{Member, Putter, members_of, object_pattern, property_of, rest_of}
use Rattle.es_statement_runs.specs.Patterns.Member.{keyed, remaining}
use Rattle.es_statement_runs.specs.Places.{placed_at, all_good, Take, avoids, target_taken}
use Rattle.es_statement_runs.specs.Runs.{start_cells}
use Rattle.es_statement_runs.specs.Scopes.{is_own_cell, stack_cell}
use Rattle.es_statement_runs.specs.Senses.{cores, ends, More, plain_sense, Place, Sense, with_key, members_in, member_of, property_aims, putter, putter_by, reference_putter, said_in, static_text, key_items}
use Rattle.es_statement_runs.specs.Senses.More.{aims, helper_call, nothing_more, keys_of}
use Rattle.es_statement_runs.proofs.CatchPatterns.{aims_like}
use Rattle.es_statement_runs.proofs.Everywhere.{close_like, close_self}
use Rattle.es_statement_runs.proofs.Everywhere.PlaceLike.{place_like}
use Rattle.es_statement_runs.proofs.Kernels.{law_parted_proof}
use Rattle.es_statement_runs.proofs.KindsAlike.{inner}
use Rattle.es_statement_runs.proofs.MoreRows.{told_self}
use Rattle.es_statement_runs.proofs.OwnCells.{own_apart}
use Rattle.es_statement_runs.proofs.PatternsAlike.{put_alike_then}
use Rattle.es_statement_runs.proofs.Programs.{rows_run, top_scope, top_world, unsilent_scope}
use Rattle.es_statement_runs.proofs.ScopedRows.{scoped_like}
use Rattle.es_statement_runs.proofs.Spreads.{bad_here, below_here, calls_helper, free_kept, helpers_, not_not}
use Rattle.es_statement_runs.proofs.RunLaws.{agree_self, nothing_quiet, nothing_stack, same_world, values_agree, worlds_equal, SameRest}

-- NAMES THAT ARE BOUND

abbrev is_bound : Binding → Bool
is_bound changeable = true
is_bound constant = true
is_bound _ = false

kind_bound : (b : Bool) → is_bound (if b then constant else changeable) ≡ true
kind_bound true = refl
kind_bound false = refl

found_bound : (o : Option Text) (x : Text) (scope : Text → Binding) → is_bound (scope x) ≡ true → is_bound (found o x scope x) ≡ true
found_bound None x scope h = h
found_bound (Some kind) x scope h = kind_bound (bytes_eq kind (codes "const"))

scope_bound : (ds : List Declared) (x : Text) → not (is_free (scope_of ds x)) ≡ true → is_bound (scope_of ds x) ≡ true
scope_bound [] x h = absurd (false≢true h)
scope_bound (d ∷ ds) x h = at (bytes_eq x d.name) (bytes_eq d.kind (codes "const")) (scope_of ds x) h (scope_bound ds x)
  where
    at : (a b : Bool) (e : Binding) → not (is_free (if a then (if b then constant else changeable) else e)) ≡ true → (not (is_free e) ≡ true → is_bound e ≡ true) → is_bound (if a then (if b then constant else changeable) else e) ≡ true
    at true b e h g = kind_bound b
    at false b e h g = g h

-- a scope's names are bound below it, and those around stay bound
entered_bound : (es ds : List Declared) (x : Text) (scope : Text → Binding) → (not (is_free (scope_of ds x)) ≡ true → is_bound (scope x) ≡ true) → not (is_free (scope_of (es ++ ds) x)) ≡ true → is_bound (found (kind_in es x) x scope x) ≡ true
entered_bound [] ds x scope h g = h g
entered_bound (e ∷ es) ds x scope h g = at (bytes_eq x e.name) g (entered_bound es ds x scope h)
  where
    at : (b : Bool) → not (is_free (if b then binding_of e.kind else scope_of (es ++ ds) x)) ≡ true → (not (is_free (scope_of (es ++ ds) x)) ≡ true → is_bound (found (kind_in es x) x scope x) ≡ true) → is_bound (found (if b then Some e.kind else kind_in es x) x scope x) ≡ true
    at true g k = kind_bound (bytes_eq e.kind (codes "const"))
    at false g k = k g

-- what a bound name gives, by its cell
read_bound : (b : Binding) (x : Text) (c : Text → Cell) (ms : List Move) (qs : List Question) (v : Value) → is_bound b ≡ true → c x ≡ holds v → read_name x b (state c ms qs) ≡ gives v (state c ms qs)
read_bound changeable x c ms qs v h e = rw e refl
read_bound constant x c ms qs v h e = rw e refl
read_bound free x c ms qs v h e = absurd (false≢true h)
read_bound (silent s) x c ms qs v h e = absurd (false≢true h)

bound_putter : (w : World) (b : Binding) (e : Meaning) → is_bound b ≡ true → putter_by true w (said_in by_global b) e ≡ (e.reference >>= λ r. return (reference_putter true w r))
bound_putter w changeable e h = refl
bound_putter w constant e h = refl
bound_putter w free e h = absurd (false≢true h)
bound_putter w (silent s) e h = absurd (false≢true h)

-- DECLARATIONS ONE AFTER ANOTHER

declared_first : (lets : Bool) (m : M Value) (es : List Meaning) (s : State) → declared lets (gives_value m ∷ es) s ≡ onward (m s) (λ z. declared lets es)
declared_first lets m es s = at lets (m s)
  where
    at : (b : Bool) (r : Result Value) → onward (onward r as_plain) (λ q. settle b q >>= λ z. declared lets es) ≡ onward r (λ z. declared lets es)
    at true (gives v t) = refl
    at false (gives v t) = refl
    at b (stops k t) = refl

-- after the same declarators
declared_after : (lets : Bool) (ds xs ys : List Meaning) → ((st : State) → declared lets xs st ≡ declared lets ys st) → (st : State) → declared lets (ds ++ xs) st ≡ declared lets (ds ++ ys) st
declared_after lets [] xs ys h st = h st
declared_after lets (d ∷ ds) xs ys h st = ap (λ (k : M Value). (d.reference >>= λ r. settle lets r >>= λ z. k) st) (λ i u. declared_after lets ds xs ys h u i)

cores_followed : (p : Place) (xs ys : Trees) → cores (senses p (followed xs ys)) ≡ cores (senses p xs) ++ cores (senses p ys)
cores_followed p empty ys = refl
cores_followed p (x before xs) ys = ap (λ (es : List Meaning). (sense p x).core ∷ es) (cores_followed p xs ys)

followed_alike : (lets : Bool) (p : Place) (ds xs ys : Trees) → ((st : State) → declared lets (cores (senses p xs)) st ≡ declared lets (cores (senses p ys)) st) → (st : State) →
    declared lets (cores (senses p (followed ds xs))) st ≡ declared lets (cores (senses p (followed ds ys))) st
followed_alike lets p ds xs ys h st =
    ap (λ (es : List Meaning). declared lets es st) (cores_followed p ds xs)
    ∙ (declared_after lets (cores (senses p ds)) (cores (senses p xs)) (cores (senses p ys)) h st ∙ sym (ap (λ (es : List Meaning). declared lets es st) (cores_followed p ds ys)))

both_nothing : {x y : More} → x ≡ nothing_more → y ≡ nothing_more → MoreLike no_frame x y
both_nothing e d = rw (e, d) same_nothing

-- a declarator with a value says nothing more
valued_more : (p : Place) (x : More) (id e : Sense) (m : Meaning) → (declarator_by p x id e m).more ≡ nothing_more
valued_more p (aims target) id e m = refl
valued_more p (keys_of ks) id e m = refl
valued_more p _ id e m = at (is_word (codes "using") p.word)
  where
    at : (b : Bool) → (if b then ends (id.core.reference >>= λ r. value p.world e.core >>= used >>= λ v. initialise v r) else plain_sense m).more ≡ nothing_more
    at true = refl
    at false = refl

said_first : (p : Place) {ds : Trees} (d : Label) (v e : Tree) (c : Trees) → Valued ds → first_more (senses p (followed ds (declares_from d v e before c))) ≡ nothing_more
said_first p d v e c none_valued = valued_more p _ _ _ _
said_first p d v e c first_valued = valued_more p _ _ _ _

-- STATIC PROPERTIES

module _ (w : World) where
  abbrev at_ : Tree → Sense
  at_ t = sense (placed_at by_global w [] []) t

  key_said : (k : Tree) → is_key (kind_of k) ≡ true → static_text (at_ k) ≡ key_text k
  key_said (node Identifier l fs) h = word_said (w.scope (first_text l.texts)) (first_text l.texts)
    where
      word_said : (b : Binding) (x : Text) → static_text (record { core = name x; more = said_in by_global b }) ≡ x
      word_said free x = refl
      word_said changeable x = refl
      word_said constant x = refl
      word_said (silent (Rattle.es_runs.specs.Core.Silent.helper_name h)) x = refl
      word_said (silent (Rattle.es_runs.specs.Core.Silent.keys_name vs)) x = refl
  key_said (node StringLiteral l fs) h = refl
  key_said (node NumericLiteral l fs) h = refl
  key_said (node BigIntLiteral l fs) h = refl
  key_said (node _ l fs) h = absurd (false≢true h)

  abbrev property_at : Tree → Tree → StaticProperty
  property_at k e = record { key = return (text (static_text (at_ k))); excluded = static_text (at_ k); target = putter true w (at_ e) }

  abbrev properties_of : {ps : Trees} {ts : List Text} → StaticProperties ps ts → List StaticProperty
  properties_of no_property = []
  properties_of (one_property {k = k} {e = e} f g h) = property_at k e ∷ properties_of h

  abbrev texts_as : List Text → Values
  texts_as [] = none
  texts_as (t ∷ ts) = text t and texts_as ts

  properties_keys : {ps : Trees} {ts : List Text} → (h : StaticProperties ps ts) → static_keys (properties_of h) ≡ texts_as ts
  properties_keys no_property = refl
  properties_keys (one_property {k = k} f g h) = λ i. text (key_said k g i) and properties_keys h i

  property_member : (b : Bool) (k e : Sense) → b ≡ false → member_of (property_aims true w b k e).more ≡ keyed (property_of (return (text (static_text k))) (Some (static_text k)) (putter true w e))
  property_member true k e h = absurd (true≢false h)
  property_member false k e h = refl

  properties_members : {ps : Trees} {ts : List Text} → (h : StaticProperties ps ts) → members_in (senses (placed_at by_global w [] []) ps) ≡ all_keyed (static_properties (properties_of h))
  properties_members no_property = refl
  properties_members (one_property {l = l} {k = k} {e = e} f g h) = λ i. property_member (flag_at 1 l.flags) (at_ k) (at_ e) f i ∷ properties_members h i

  abbrev Members : Trees → List Member
  Members ps = members_in (senses (placed_at by_global w [] []) ps)

  members_followed : (ps qs : Trees) → Members (followed ps qs) ≡ Members ps ++ Members qs
  members_followed empty qs = refl
  members_followed (p before ps) qs = ap (λ (ms : List Member). member_of (at_ p).more ∷ ms) (members_followed ps qs)

-- THE KEYS OF A LIST OF STRINGS

abbrev given_keys : List Text → M Values
given_keys [] = return none
given_keys (t ∷ ts) = return (text t) >>= λ v. given_keys ts >>= λ vs. return (v and vs)

keys_given : (w : World) (ts : List Text) (st : State) → given_keys ts st ≡ gives (texts_as w ts) st
keys_given w [] st = refl
keys_given w (t ∷ ts) st = ap (λ (r : Result Values). onward r (λ vs. return (text t and vs))) (keys_given w ts st)

strings_keys : (w : World) (at : ℕ → Place) (ts : List Text) → key_items w (portions at (strings ts)) ≡ Some (given_keys ts)
strings_keys w at [] = refl
strings_keys w at (t ∷ ts) = ap (with_key (Some (return (text t)))) (strings_keys w (λ i. at (suc i)) ts)

-- a computation that gives no reference, as a value
ended_value : (w : World) (m : M Value) (st : State) → value w (gives_value m) st ≡ m st
ended_value w m st = plain_again w (m st)

read_unset : (b : Binding) (x : Text) (c : Text → Cell) (ms : List Move) (qs : List Question) → is_bound b ≡ true → c x ≡ unset → read_name x b (state c ms qs) ≡ stops (faults (unset_error x)) (state c ms qs)
read_unset changeable x c ms qs h e = rw e refl
read_unset constant x c ms qs h e = rw e refl
read_unset free x c ms qs h e = absurd (false≢true h)
read_unset (silent s) x c ms qs h e = absurd (false≢true h)

-- a declarator of a bound name
declarator_core : (p : Place) (b : Binding) (id e : Sense) (m : Meaning) → is_bound b ≡ true → is_word (codes "using") p.word ≡ false → (declarator_by p (said_in by_global b) id e m).core ≡ m
declarator_core p changeable id e m h g = rw g refl
declarator_core p constant id e m h g = rw g refl
declarator_core p free id e m h g = absurd (false≢true h)
declarator_core p (silent s) id e m h g = absurd (false≢true h)

module _ (s r word : Text) (no_own : is_own_cell s ≡ false) (not_using : is_word (codes "using") word ≡ false) (w : World) (s_bound : is_bound (w.scope s) ≡ true) (r_bound : is_bound (w.scope r) ≡ true)
    (calls : (at_ w (global_helper (codes "objectWithoutProperties"))).more ≡ helper_call (codes "objectWithoutProperties")) (n q : Label) (ps : Trees) (ts : List Text) (static : StaticProperties ps ts)
    (avoid : avoids (bad_names none_hidden (only s)) target_taken (object_pattern_at n ps) ≡ true) where
  -- THE FRAME in which the name holds what it holds here
  abbrev Kept : (Text → Cell) → Frame
  Kept c = kept_cells none_hidden (only s) c

  kept_quiet : (c : Text → Cell) → Quiet (Kept c)
  kept_quiet c = record { own_seen = λ y e i. record { hidden = refl; frozen = own_apart s y no_own e; loose = refl }; math = refl }

  kept_stack : (c : Text → Cell) → StackSeen (Kept c)
  kept_stack c = record { hidden = refl; frozen = own_apart s stack_cell no_own refl; loose = refl }

  kept_told : (c : Text → Cell) → Told (Kept c) (bad_names none_hidden (only s)) by_global
  kept_told c = record { helpers = record { global = refl; require = refl }; names = λ m x h. refl }

  pattern_like : (c : Text → Cell) → SenseLike (Kept c) w w target_taken (at_ w (object_pattern_at n ps)) (at_ w (object_pattern_at n ps))
  pattern_like c = close_like (Kept c) (kept_quiet c) (kept_stack c) (bad_names none_hidden (only s)) (λ m x h. h) by_global (kept_told c) (λ u v. Unit {0}) (λ ds good u v k. tt) (λ t a b. ⊥) (λ t a b e. absurd e)
      (close_self (bad_names none_hidden (only s)) (λ t a b. ⊥) (object_pattern_at n ps) target_taken avoid) (place_like {ls = []} {x = []} (same_world w) tt)

  abbrev First : Value → M Value
  First v = object_pattern (Members w ps) v

  first_alike : (c : Text → Cell) (v : Value) → Alike (Kept c) Equal (First v) (First v)
  first_alike c v = put_alike_then (Kept c) (aims_like ((pattern_like c).more refl)) v

  cell_kept : (c : Text → Cell) {a b : Value} {d e : Text → Cell} {ms ns : List Move} {qs rs : List Question} → Same (Kept c) Equal (gives a (state d ms qs)) (gives b (state e ns rs)) → e s ≡ c s
  cell_kept c (both_give k (agree f g i)) = i s (bytes_eq-self s)

  holds_still : (c : Text → Cell) (ms : List Move) (qs : List Question) (v a : Value) (d : Text → Cell) (ns : List Move) (rs : List Question) → First v (state c ms qs) ≡ gives a (state d ns rs) → d s ≡ c s
  holds_still c ms qs v a d ns rs e =
      cell_kept c (subst (λ (x : Result Value). Same (Kept c) Equal x x) e (first_alike c v (state c ms qs) (state c ms qs) (agree (λ y h. refl) (λ y h. absurd (false≢true h)) (λ y h. refl))))

  -- THE CALL gives the rest
  abbrev Rest : Value → M Value
  Rest v = rest_of v (texts_as w ts)

  call_value : (d : Text → Cell) (ms : List Move) (qs : List Question) (v : Value) → d s ≡ holds v → value w (at_ w (rest_call s ts)).core (state d ms qs) ≡ Rest v (state d ms qs)
  call_value d ms qs v h =
      rw (calls, strings_keys w (λ i. placed_at by_global w [] []) ts) (ended_value w (value w (name s) >>= λ u. given_keys ts >>= λ ks. rest_of u ks) (state d ms qs)
      ∙ (ap (λ (x : Result Value). onward x (λ u. given_keys ts >>= λ ks. rest_of u ks)) (read_bound (w.scope s) s d ms qs v s_bound h)
      ∙ ap (λ (x : Result Values). onward x (λ ks. rest_of v ks)) (keys_given w ts (state d ms qs))))

  -- TWO DECLARATORS DO WHAT THE ONE DOES
  abbrev rest_tree : Tree
  rest_tree = node RestElement q (one (identifier r) then done)

  abbrev Whole : Value → M Value
  Whole v = object_pattern (Members w (followed ps (rest_tree before empty))) v

  whole_parts : (v : Value) (st : State) → members_of v none (Members w (followed ps (rest_tree before empty))) st ≡ onward (members_of v none (Members w ps) st) (λ z. Rest v >>= λ u. set_cell r u)
  whole_parts v st =
      let sps = properties_of w static in
      let target : M Putter = putter true w (at_ w (identifier r)) in
      let same = properties_members w static in
      ap (λ (ms : List Member). members_of v none ms st) (members_followed w ps (rest_tree before empty))
      ∙ (ap (λ (ms : List Member). members_of v none (ms ++ (remaining target ∷ [])) st) same
      ∙ (law_parted_proof v none sps (remaining target ∷ []) st
      ∙ (ap (λ (ms : List Member). onward (members_of v none ms st) (λ z. members_of v (static_keys sps) (remaining target ∷ []))) (sym same)
      ∙ (ap (λ (ks : Values). onward (members_of v none (Members w ps) st) (λ z. members_of v ks (remaining target ∷ []))) (properties_keys w static)
      ∙ ap (λ (m : M Putter). onward (members_of v none (Members w ps) st) (λ z. m >>= λ put. Rest v >>= put)) (bound_putter w (w.scope r) (name r) r_bound)))))

  module _ (lets : Bool) (later : List Meaning) (second : Meaning) (is_second : second ≡ gives_value (value w (at_ w (rest_call s ts)).core >>= λ u. set_cell r u)) where
    abbrev one_left : Value → M Value
    one_left z = declared lets (second ∷ later)

    second_run : (d : Text → Cell) (ms : List Move) (qs : List Question) (v : Value) → d s ≡ holds v → declared lets (second ∷ later) (state d ms qs) ≡ onward ((Rest v >>= λ u. set_cell r u) (state d ms qs)) (λ z. declared lets later)
    second_run d ms qs v h =
        ap (λ (m : Meaning). declared lets (m ∷ later) (state d ms qs)) is_second
        ∙ (declared_first lets (value w (at_ w (rest_call s ts)).core >>= λ u. set_cell r u) later (state d ms qs)
        ∙ ap (λ (x : Result Value). onward (onward x (λ u. set_cell r u)) (λ z. declared lets later)) (call_value d ms qs v h))

    -- after the properties, whatever came of them
    after_first : (c : Text → Cell) (v : Value) → c s ≡ holds v → (x : Result Value) → ((a : Value) (d : Text → Cell) (ns : List Move) (rs : List Question) → x ≡ gives a (state d ns rs) → d s ≡ c s) →
        onward (onward x (λ z. Rest v >>= λ u. set_cell r u)) (λ z. declared lets later) ≡ onward x one_left
    after_first c v h (gives a (state d ns rs)) g = sym (second_run d ns rs v (g a d ns rs refl ∙ h))
    after_first c v h (stops k t) g = refl

    pattern_runs : (c : Text → Cell) (ms : List Move) (qs : List Question) (v : Value) → c s ≡ holds v → onward (Whole v (state c ms qs)) (λ z. declared lets later) ≡ onward (First v (state c ms qs)) one_left
    pattern_runs c ms qs v h = at (is_nullish v) (holds_still c ms qs v)
      where
        at : (b : Bool) → ((a : Value) (d : Text → Cell) (ns : List Move) (rs : List Question) → (if b then stop (throws (own pattern_error)) else members_of v none (Members w ps)) (state c ms qs) ≡ gives a (state d ns rs) → d s ≡ c s) →
            onward ((if b then stop (throws (own pattern_error)) else members_of v none (Members w (followed ps (rest_tree before empty)))) (state c ms qs)) (λ z. declared lets later) ≡ onward ((if b then stop (throws (own pattern_error)) else members_of v none (Members w ps)) (state c ms qs)) one_left
        at true g = refl
        at false g = ap (λ (x : Result Value). onward x (λ z. declared lets later)) (whole_parts v (state c ms qs)) ∙ after_first c v h (members_of v none (Members w ps) (state c ms qs)) g

    abbrev Reads : (Value → M Value) → M Value
    Reads put = value w (name s) >>= put

    reads_run : (c : Text → Cell) (ms : List Move) (qs : List Question) (x : Cell) → c s ≡ x → onward (Reads Whole (state c ms qs)) (λ z. declared lets later) ≡ onward (Reads First (state c ms qs)) one_left
    reads_run c ms qs unset e = rw (read_unset (w.scope s) s c ms qs s_bound e) refl
    reads_run c ms qs (holds v) e = rw (read_bound (w.scope s) s c ms qs v s_bound e) (pattern_runs c ms qs v e)

    pub rest_runs : (st : State) → declared lets (gives_value (Reads Whole) ∷ later) st ≡ declared lets (gives_value (Reads First) ∷ second ∷ later) st
    rest_runs (state c ms qs) = declared_first lets (Reads Whole) later (state c ms qs) ∙ (reads_run c ms qs (c s) refl ∙ sym (declared_first lets (Reads First) (second ∷ later) (state c ms qs)))

-- WITHOUT PROPERTIES

module _ (s r : Text) (w : World) (s_bound : is_bound (w.scope s) ≡ true) (r_bound : is_bound (w.scope r) ≡ true) (extends_ : (at_ w (global_helper (codes "extends"))).more ≡ helper_call (codes "extends"))
    (destructs : (at_ w (global_helper (codes "objectDestructuringEmpty"))).more ≡ helper_call (codes "objectDestructuringEmpty")) (q : Label) where
  abbrev Tested : Value → M Value
  Tested v = if is_nullish v then stop (throws (own pattern_error)) else return undefined

  abbrev Twice : M Value
  Twice = value w (gives_value (value w (name s) >>= Tested)) >>= λ z. value w (name s) >>= λ v. return v

  abbrev Copied : M Value
  Copied = value w (gives_value Twice) >>= λ v. rest_of v none

  -- what the call does
  copied_value : (st : State) → value w (at_ w (bare_rest_call s)).core st ≡ onward (onward (onward (value w (name s) st) Tested) (λ z. value w (name s) >>= λ v. return v)) (λ v. rest_of v none)
  copied_value st = rw (extends_, destructs) (ended_value w Copied st
      ∙ (ap (λ (x : Result Value). onward x (λ v. rest_of v none)) (ended_value w Twice st)
      ∙ ap (λ (x : Result Value). onward (onward x (λ z. value w (name s) >>= λ v. return v)) (λ v. rest_of v none)) (ended_value w (value w (name s) >>= Tested) st)))

  abbrev Pattern : Value → M Value
  Pattern v = object_pattern (Members w (node RestElement q (one (identifier r) then done) before empty)) v

  abbrev Assigned : M Value
  Assigned = value w (at_ w (bare_rest_call s)).core >>= λ u. set_cell r u

  bare_holds : (c : Text → Cell) (ms : List Move) (qs : List Question) (v : Value) → c s ≡ holds v → Pattern v (state c ms qs) ≡ Assigned (state c ms qs)
  bare_holds c ms qs v h =
      ap (λ (m : M Putter). (if is_nullish v then stop (throws (own pattern_error)) else (m >>= λ put. rest_of v none >>= put)) (state c ms qs)) (bound_putter w (w.scope r) (name r) r_bound)
      ∙ (at (is_nullish v) ∙ sym (ap (λ (x : Result Value). onward x (λ u. set_cell r u)) (copied_value (state c ms qs)
      ∙ ap (λ (x : Result Value). onward (onward (onward x Tested) (λ z. value w (name s) >>= λ u. return u)) (λ u. rest_of u none)) (read_bound (w.scope s) s c ms qs v s_bound h))))
    where
      at : (b : Bool) → (if b then stop (throws (own pattern_error)) else (rest_of v none >>= λ u. set_cell r u)) (state c ms qs) ≡
          onward (onward (onward ((if b then stop (throws (own pattern_error)) else return undefined) (state c ms qs)) (λ z. value w (name s) >>= λ u. return u)) (λ u. rest_of u none)) (λ u. set_cell r u)
      at true = refl
      at false = sym (ap (λ (x : Result Value). onward (onward (onward x (λ u. return u)) (λ u. rest_of u none)) (λ u. set_cell r u)) (read_bound (w.scope s) s c ms qs v s_bound h))

  bare_cell : (c : Text → Cell) (ms : List Move) (qs : List Question) (x : Cell) → c s ≡ x → (value w (name s) >>= Pattern) (state c ms qs) ≡ Assigned (state c ms qs)
  bare_cell c ms qs unset e =
      ap (λ (x : Result Value). onward x Pattern) (read_unset (w.scope s) s c ms qs s_bound e)
      ∙ sym (ap (λ (x : Result Value). onward x (λ u. set_cell r u)) (copied_value (state c ms qs)
      ∙ ap (λ (x : Result Value). onward (onward (onward x Tested) (λ z. value w (name s) >>= λ u. return u)) (λ u. rest_of u none)) (read_unset (w.scope s) s c ms qs s_bound e)))
  bare_cell c ms qs (holds v) e = ap (λ (x : Result Value). onward x Pattern) (read_bound (w.scope s) s c ms qs v s_bound e) ∙ bare_holds c ms qs v e

  pub bare_runs : (lets : Bool) (later : List Meaning) (second : Meaning) → second ≡ gives_value Assigned → (st : State) → declared lets (gives_value (value w (name s) >>= Pattern) ∷ later) st ≡ declared lets (second ∷ later) st
  bare_runs lets later second is_second (state c ms qs) =
      declared_first lets (value w (name s) >>= Pattern) later (state c ms qs)
      ∙ (ap (λ (x : Result Value). onward x (λ z. declared lets later)) (bare_cell c ms qs (c s) refl)
      ∙ sym (ap (λ (m : Meaning). declared lets (m ∷ later) (state c ms qs)) is_second ∙ declared_first lets Assigned later (state c ms qs)))

-- THE ROW

module _ (s r : Text) (no_own : is_own_cell s ≡ false) where
  -- what is known where the row acts: the helpers' object is unbound, and each of both names is bound that is declared
  abbrev Known : List Declared → World → World → Type 0
  Known ds w v = (is_free (v.scope helpers_) ≡ true) × (is_declared ds s ≡ true → is_bound (v.scope s) ≡ true) × (is_declared ds r ≡ true → is_bound (v.scope r) ≡ true) × SameRest w v

  known_kept : (es ds : List Declared) → all_good (bad_here helpers_) (names_of_all ds) ≡ true → (w v : World) → Known es w v → Known es (inner w ds) (inner v ds)
  known_kept es ds good w v k = (free_kept helpers_ ds good w v k.0, λ d. found_bound (kind_in ds s) s v.scope (k.1 d), λ d. found_bound (kind_in ds r) r v.scope (k.2 d), record { other = k.3.other; spreads = k.3.spreads })

  known_entered : (es ds : List Declared) → all_good (bad_here helpers_) (names_of_all es) ≡ true → (w v : World) → Known ds w v → Known (es ++ ds) (inner w es) (inner v es)
  known_entered es ds good w v k = (free_kept helpers_ es good w v k.0, entered_bound es ds s v.scope k.1, entered_bound es ds r v.scope k.2, record { other = k.3.other; spreads = k.3.spreads })

  abbrev Bound : World → Type 0
  Bound w = (is_free (w.scope helpers_) ≡ true) × (is_bound (w.scope s) ≡ true) × (is_bound (w.scope r) ≡ true)

  at_one : (w : World) → Bound w → (t : Take) (a b : Tree) → RestRow s r t a b → (ls : List Text) (x : Text) → SenseLike no_frame w w t (sense (placed_at by_global w ls x) a) (sense (placed_at by_global w ls x) b)
  at_one w k t _ _ (rest_row {m = m} {ps = ps} {ts = ts} d e l n q a c valued not_using static avoid) ls x =
      let lets = bytes_eq (first_text m.texts) (codes "let") in
      let place = placed_at by_global w [] (first_text m.texts) in
      let second = declarator_core place (w.scope r) (at_ w (identifier r)) (at_ w (rest_call s ts)) (declarator w (name r) (at_ w (rest_call s ts)).core) k.2 not_using in
      record {
        core = plain_like no_frame w w (same_world w) t.need _ _ (values_agree _ _ (λ st. sym (followed_alike lets place a _ _
            (rest_runs s r (first_text m.texts) no_own not_using w k.1 k.2 (calls_helper (codes "objectWithoutProperties") refl w k.0) n q ps ts static avoid lets (cores (senses place c)) _ second) st)));
        more = λ _. both_nothing (said_first place d _ _ c valued) (said_first place d _ _ _ valued);
      }
  at_one w k t _ _ (bare_row {m = m} d e l q a c valued not_using) ls x =
      let lets = bytes_eq (first_text m.texts) (codes "let") in
      let place = placed_at by_global w [] (first_text m.texts) in
      let second = declarator_core place (w.scope r) (at_ w (identifier r)) (at_ w (bare_rest_call s)) (declarator w (name r) (at_ w (bare_rest_call s)).core) k.2 not_using in
      record {
        core = plain_like no_frame w w (same_world w) t.need _ _ (values_agree _ _ (λ st. sym (followed_alike lets place a _ _
            (bare_runs s r w k.1 k.2 (calls_helper (codes "extends") refl w k.0) (calls_helper (codes "objectDestructuringEmpty") refl w k.0) q lets (cores (senses place c)) _ second) st)));
        more = λ _. both_nothing (said_first place d _ _ c valued) (said_first place e _ _ c valued);
      }

  rest_like : (t : Take) (a b : Tree) → RestRow s r t a b → (w v : World) → SameWorld none_hidden w v → Bound v → SameRest w v → (ls : List Text) (x : Text) → SenseLike no_frame w v t (sense (placed_at by_global w ls x) a) (sense (placed_at by_global v ls x) b)
  rest_like t a b row w v same k rest ls x =
      let here : Bound w = (ap is_free (sym (same.scope helpers_ refl)) ∙ k.0, ap is_bound (sym (same.scope s refl)) ∙ k.1, ap is_bound (sym (same.scope r refl)) ∙ k.2) in
      subst (λ (z : World). SenseLike no_frame w z t (sense (placed_at by_global w ls x) a) (sense (placed_at by_global z ls x) b)) (worlds_equal w v rest same) (at_one w here t a b row ls x)

  rests_like : (n : ℕ) (ds : List Declared) (t : Take) (a b : Tree) → Rests s r n ds t a b → (w v : World) → SameWorld none_hidden w v → Known ds w v → (ls : List Text) (x : Text) → SenseLike no_frame w v t (sense (placed_at by_global w ls x) a) (sense (placed_at by_global v ls x) b)
  rests_like zero ds t a b row w v same k ls x = rest_like t a b row.2 w v same (k.0, k.1 row.0, k.2 row.1) k.3 ls x
  rests_like (suc n) ds t a b row w v same k ls x =
      scoped_like no_frame nothing_quiet nothing_stack (bad_here helpers_) (below_here helpers_) by_global (told_self (bad_here helpers_) by_global) Known known_kept known_entered (Rests s r n) (rests_like n) ds t a b row w v same k ls x

pub law_rest_proof : LawRest
law_rest_proof s r n l ds body after rows tops uses silents undeclared unsilent no_own s_unsilent r_unsilent =
    let p = program l ds body in
    let after_scope = top_scope by_global p (program l ds after) tops silents in
    rows_run no_frame nothing_quiet nothing_stack (bad_here helpers_) (below_here helpers_) by_global l ds body after [] (told_self (bad_here helpers_) by_global) (Known s r no_own (top_in body)) (known_kept s r no_own (top_in body)) (Rests s r n (top_in body)) (rests_like s r no_own n (top_in body)) rows uses
    (top_world by_global none_hidden p (program l ds after) tops silents)
    (λ this. (
      ap is_free (after_scope helpers_ ∙ unsilent_scope by_global p helpers_ unsilent) ∙ not_not (is_free (scope_of (top_in body) helpers_)) undeclared,
      λ d. ap is_bound (after_scope s ∙ unsilent_scope by_global p s s_unsilent) ∙ scope_bound (top_in body) s d,
      λ d. ap is_bound (after_scope r ∙ unsilent_scope by_global p r r_unsilent) ∙ scope_bound (top_in body) r d,
      record { other = refl; spreads = refl },
    ))
    (λ n moves. rw tops (agree_self (state (start_cells n (top_in body)) moves []))) (λ x e. refl)
