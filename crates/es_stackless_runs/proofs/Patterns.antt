-- What patterns and literals do matches, where what their parts do does, and leaves no stack where there is none.
use Rattle.std.proofs.Common.{refl, List, length}
use Rattle.std.proofs.lemmas.Bool.{and_parts}
use Rattle.std.specs.Prelude.{ℕ, zero, suc, Bool, true, false, Option, Some, None}
use Rattle.es_tree.specs.Words.{Text}
use Rattle.es_runs.specs.Machine.{Value, Values, M, ◌>>=◌, return, is_nullish, is_undefined, is_callable, joined}
use Rattle.es_runs.specs.Machine.Value.{undefined, text, own}
use Rattle.es_runs.specs.Machine.OwnValue.{list, pattern_error}
use Rattle.es_runs.specs.Machine.Values.{none, ◌and◌}
use Rattle.es_runs.specs.Machine.Question.{get, of_statement}
use Rattle.es_runs.specs.Machine.StatementQuestion.{iterator, item, close, array, template, copy, make}
use Rattle.es_runs.specs.Machine.State.{state}
use Rattle.es_runs.specs.Machine.Stop.{throws, unknown, uncallable}
use Rattle.es_stackless_runs.specs.Laws.{is_stackless, are_stackless}
use Rattle.es_stackless_runs.proofs.Machine.{Lacks, AllLack, Anything, MatchesBy, Matches, both_lack, bind, bind_by, returns, stopped, choice, asks, calls}
use Rattle.es_stackless_runs.proofs.Machine.Matched.{both_give}
use Rattle.es_stackless_runs.proofs.CoreKinds.{AllBy}
use Rattle.es_stackless_runs.proofs.CoreKinds.AllBy.{no_more, one_more}
use Rattle.es_statement_runs.specs.Patterns.{Putter, one_value, copied, collected, rest_of, or_default, Member, property_of, members_of, object_pattern, Element, Advance, advance, skipped, is_alive, item_of, items_within, all_items, close_where, elements_of, array_pattern, tagged}
use Rattle.es_statement_runs.specs.Patterns.Advance.{at_end, advanced}
use Rattle.es_statement_runs.specs.Patterns.Member.{keyed, remaining}
use Rattle.es_statement_runs.specs.Patterns.Element.{elision, takes, takes_rest}
use Rattle.es_stackless_runs.proofs.Statements.{PutterMatching, guarded_matches, stepped_matches, done_matches}

-- two targets: references that are evaluated alike, and what then puts a value
abbrev pub TargetMatching : M Putter → M Putter → Type 0
TargetMatching m k = MatchesBy PutterMatching m k

pub data MemberMatching : Member → Member → Type 0 where
  keyed_matching : {f g : Putter} → PutterMatching f g → MemberMatching (keyed f) (keyed g)
  remaining_matching : {m k : M Putter} → TargetMatching m k → MemberMatching (remaining m) (remaining k)

pub data ElementMatching : Element → Element → Type 0 where
  elision_matching : ElementMatching elision elision
  takes_matching : {m k : M Putter} → TargetMatching m k → ElementMatching (takes m) (takes k)
  takes_rest_matching : {m k : M Putter} → TargetMatching m k → ElementMatching (takes_rest m) (takes_rest k)

pub returns_putter : {f g : Putter} → PutterMatching f g → TargetMatching (return f) (return g)
returns_putter h s n = both_give h n

-- a target, and then the value
pub puts_then : {m k : M Putter} → TargetMatching m k → PutterMatching (λ v. m >>= λ put. put v) (λ v. k >>= λ put. put v)
puts_then h v i = bind_by h (λ f g p. p v i)

pub joined_lack : (us vs : Values) → AllLack us → AllLack vs → AllLack (joined us vs)
joined_lack none vs h g = g
joined_lack (u and us) vs h g = let e = and_parts (is_stackless u) (are_stackless us) h in both_lack e.0 (joined_lack us vs e.1 g)

pub collected_matches : {ms ks : List (M Value)} → AllBy (Matches Lacks) ms ks → Matches AllLack (collected ms) (collected ks)
collected_matches no_more = returns none refl
collected_matches (one_more h hs) = bind h (λ v i. bind (collected_matches hs) (λ vs j. returns (v and vs) (both_lack i j)))

pub copied_matches : (v : Value) (ks : Values) → Matches Lacks (copied v ks) (copied v ks)
copied_matches v ks = bind (asks (of_statement (copy v ks))) (λ c h. returns (own (list (one_value c))) (both_lack h refl))

pub rest_matches : (v : Value) (ks : Values) → Matches Lacks (rest_of v ks) (rest_of v ks)
rest_matches v ks = bind (copied_matches v ks) (λ c h. asks (of_statement (make (one_value c))))

pub default_matches : {e d : M Value} → Matches Lacks e d → {f g : Putter} → PutterMatching f g → PutterMatching (or_default e f) (or_default d g)
default_matches h p v i = choice (is_undefined v) (bind h p) (p v i)

-- OBJECT PATTERNS

pub property_matches : {key key' : M Value} → Matches Lacks key key' → (t : Option Text) {m k : M Putter} → TargetMatching m k → PutterMatching (property_of key t m) (property_of key' t k)
property_matches h (Some t) p v i = bind h (λ k j. bind_by p (λ f g q. bind (bind (asks (get v k)) q) (λ z l. returns (text t) refl)))
property_matches h None p v i = bind h (λ k j. bind_by p (λ f g q. bind (bind (asks (get v k)) q) (λ z l. returns k j)))

members_matches : (v : Value) (ks : Values) {ms ns : List Member} → AllBy MemberMatching ms ns → Lacks v → Matches Lacks (members_of v ks ms) (members_of v ks ns)
members_matches v ks no_more i = returns undefined refl
members_matches v ks (one_more (keyed_matching p) hs) i = bind (p v i) (λ k j. members_matches v (joined ks (one_value k)) hs i)
members_matches v ks (one_more (remaining_matching m) hs) i = bind_by m (λ f g p. bind (rest_matches v ks) p)

pub object_matches : {ms ns : List Member} → AllBy MemberMatching ms ns → PutterMatching (object_pattern ms) (object_pattern ns)
object_matches h v i = choice (is_nullish v) (stopped (throws (own pattern_error)) refl) (members_matches v none h i)

-- ARRAY PATTERNS

abbrev AdvanceLacks : Advance → Type 0
AdvanceLacks at_end = Unit {0}
AdvanceLacks (advanced v) = Lacks v

item_lacks : (a : Advance) → AdvanceLacks a → Lacks (item_of a)
item_lacks at_end h = refl
item_lacks (advanced v) h = h

advance_matches : (alive : Bool) (it : Value) → Matches AdvanceLacks (advance alive it) (advance alive it)
advance_matches false it = returns at_end tt
advance_matches true it = bind (stepped_matches it) (λ b i. choice b (bind (asks (of_statement (item it))) (λ v h. returns (advanced v) h)) (returns at_end tt))

skipped_matches : (alive : Bool) (it : Value) → Matches Anything (skipped alive it) (skipped alive it)
skipped_matches false it = returns false tt
skipped_matches true it = stepped_matches it

items_matches : (n : ℕ) (it : Value) → Matches AllLack (items_within n it) (items_within n it)
items_matches zero it = stopped unknown tt
items_matches (suc n) it = bind (stepped_matches it) (λ b i. choice b (bind (asks (of_statement (item it))) (λ v h. bind (items_matches n it) (λ vs g. returns (v and vs) (both_lack h g)))) (returns none refl))

all_items_matches : (alive : Bool) (it : Value) → Matches AllLack (all_items alive it) (all_items alive it)
all_items_matches true it (state c ms qs) n = items_matches (suc (length ms)) it (state c ms qs) n
all_items_matches false it s n = returns none refl s n

close_matches : (alive : Bool) (it : Value) → Matches Lacks (close_where alive it) (close_where alive it)
close_matches true it = bind (asks (of_statement (close it))) (λ v h. done_matches v)
close_matches false it = returns undefined refl

elements_matches : (it : Value) (alive : Bool) {es ds : List Element} → AllBy ElementMatching es ds → Matches Lacks (elements_of it alive es) (elements_of it alive ds)
elements_matches it alive no_more = close_matches alive it
elements_matches it alive (one_more elision_matching hs) = bind (skipped_matches alive it) (λ b i. elements_matches it b hs)
elements_matches it alive (one_more (takes_matching m) hs) = bind_by (guarded_matches alive it m) (λ f g p. bind (advance_matches alive it) (λ a i. bind (guarded_matches (is_alive a) it (p (item_of a) (item_lacks a i))) (λ z j. elements_matches it (is_alive a) hs)))
elements_matches it alive (one_more (takes_rest_matching m) hs) = bind_by (guarded_matches alive it m) (λ f g p. bind (all_items_matches alive it) (λ vs i. bind (asks (of_statement (array vs))) p))

pub array_matches : {es ds : List Element} → AllBy ElementMatching es ds → PutterMatching (array_pattern es) (array_pattern ds)
array_matches h v i = bind (asks (of_statement (iterator v))) (λ it j. elements_matches it true h)

-- TEMPLATES

pub tagged_matches : (raws cooked : Values) {vs us : M Values} → Matches AllLack vs us → (f r : Value) → Matches Lacks (tagged raws cooked vs f r) (tagged raws cooked us f r)
tagged_matches raws cooked h f r = bind (asks (of_statement (template (own (list raws) and own (list cooked) and none)))) (λ t i. bind h (λ us j. choice (is_callable f) (calls f r (t and us)) (stopped uncallable tt)))
