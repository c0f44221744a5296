-- Patterns, literals and templates are alike where their parts are.
use Rattle.std.proofs.Common.{List}
use Rattle.std.specs.Prelude.{ℕ, zero, suc, Bool, true, false, Option, Some, None, length}
use Rattle.es_tree.specs.Words.{Text}
use Rattle.es_runs.specs.Machine.{Value, Values, M, ◌>>=◌, return, is_nullish, is_undefined, is_callable, joined}
use Rattle.es_runs.specs.Machine.Value.{undefined, text, own}
use Rattle.es_runs.specs.Machine.OwnValue.{list, pattern_error}
use Rattle.es_runs.specs.Machine.Values.{none, ◌and◌}
use Rattle.es_runs.specs.Machine.Question.{get, of_statement}
use Rattle.es_runs.specs.Machine.StatementQuestion.{iterator, item, close, array, template, copy, make}
use Rattle.es_runs.specs.Machine.State.{state}
use Rattle.es_runs.specs.Machine.Stop.{throws, unknown, uncallable}
use Rattle.es_runs.specs.Core.{World, Reference, initialise}
use Rattle.es_runs.specs.Alike.{Frame, Alike, Equal, SameTarget, SameWorld}
use Rattle.es_runs.specs.Alike.Agree.{agree}
use Rattle.es_runs.specs.Alike.Same.{both_give}
use Rattle.es_runs.specs.Alike.Equal.{equal}
use Rattle.es_runs.specs.Alike.SameTarget.{target_name, target_property, target_plain}
use Rattle.es_runs.proofs.Basic.{bind_alike, then_alike, return_alike, stop_alike, ask_alike, set_alike, put_alike, call_alike}
use Rattle.es_statement_runs.specs.Patterns.{Putter, one_value, copied, collected, made_object, rest_of, or_default, Member, property_of, members_of, object_pattern, Element, advance, skipped, is_alive, item_of, items_within, all_items, close_where, elements_of, array_pattern, tagged}
use Rattle.es_statement_runs.specs.Patterns.Advance.{at_end, advanced}
use Rattle.es_statement_runs.specs.Senses.{reference_putter}
use Rattle.es_statement_runs.specs.Alike.{PutterLike, MembersLike, ElementsLike, DefinitionsLike}
use Rattle.es_statement_runs.specs.Alike.MemberLike.{like_keyed, like_remaining}
use Rattle.es_statement_runs.specs.Alike.MembersLike.{no_member, member_and}
use Rattle.es_statement_runs.specs.Alike.ElementLike.{like_elision, like_takes, like_takes_rest}
use Rattle.es_statement_runs.specs.Alike.ElementsLike.{no_element, element_and}
use Rattle.es_statement_runs.specs.Alike.DefinitionsLike.{no_definition, definition_and}
use Rattle.es_statement_runs.proofs.Combinators.{choice_alike, guarded_alike, stepped_alike, done_alike}

module _ (F : Frame) where
  -- a putter, and then the value
  pub put_alike_then : {m k : M Putter} → Alike F (PutterLike F) m k → (v : Value) → Alike F Equal (m >>= λ put. put v) (k >>= λ put. put v)
  put_alike_then h v = bind_alike F h (λ f g e. e v)

  pub returns_putter : {f g : Putter} → PutterLike F f g → Alike F (PutterLike F) (return f) (return g)
  returns_putter h s t g = both_give h g

  pub initialise_alike : (u : Value) {r q : Reference} → SameTarget F r q → Alike F Equal (initialise u r) (initialise u q)
  initialise_alike u (target_name {x = x} e z) = set_alike F x e z u
  initialise_alike u target_property = stop_alike F unknown
  initialise_alike u target_plain = stop_alike F unknown

  pub reference_putter_alike : (w v : World) → SameWorld F.hidden w v → (binding : Bool) (r q : Reference) → SameTarget F r q → PutterLike F (reference_putter binding w r) (reference_putter binding v q)
  reference_putter_alike w v same true r q e u = initialise_alike u e
  reference_putter_alike w v same false r q e u = put_alike F w v same u e

  copied_alike : (v : Value) (ks : Values) → Alike F Equal (copied v ks) (copied v ks)
  copied_alike v ks = then_alike F (ask_alike F (of_statement (copy v ks))) (λ c. return_alike F (own (list (one_value c))))

  pub copied_then : (v : Value) (ks : Values) → Alike F Equal (copied v ks) (copied v ks)
  copied_then v ks = copied_alike v ks

  pub rest_alike : (v : Value) (ks : Values) → Alike F Equal (rest_of v ks) (rest_of v ks)
  rest_alike v ks = then_alike F (copied_alike v ks) (λ c. ask_alike F (of_statement (make (one_value c))))

  pub collected_alike : {ms ks : List (M Value)} → DefinitionsLike F ms ks → Alike F Equal (collected ms) (collected ks)
  collected_alike no_definition = return_alike F none
  collected_alike (definition_and h hs) = then_alike F h (λ v. then_alike F (collected_alike hs) (λ vs. return_alike F (v and vs)))

  pub made_alike : {m k : M Values} → Alike F Equal m k → Alike F Equal (m >>= made_object) (k >>= made_object)
  made_alike h = then_alike F h (λ ds. ask_alike F (of_statement (make ds)))

  pub default_alike : {e d : M Value} → Alike F Equal e d → {f g : Putter} → PutterLike F f g → PutterLike F (or_default e f) (or_default d g)
  default_alike h k v = choice_alike F (is_undefined v) (then_alike F h k) (k v)

  pub property_alike : {key key' : M Value} → Alike F Equal key key' → (t : Option Text) {m k : M Putter} → Alike F (PutterLike F) m k → PutterLike F (property_of key t m) (property_of key' t k)
  property_alike h (Some t) g v = then_alike F h (λ x. bind_alike F g (λ f f' e. then_alike F (then_alike F (ask_alike F (get v x)) e) (λ u. return_alike F (text t))))
  property_alike h None g v = then_alike F h (λ x. bind_alike F g (λ f f' e. then_alike F (then_alike F (ask_alike F (get v x)) e) (λ u. return_alike F x)))

  members_alike : (v : Value) (ks : Values) {ms ns : List Member} → MembersLike F ms ns → Alike F Equal (members_of v ks ms) (members_of v ks ns)
  members_alike v ks no_member = return_alike F undefined
  members_alike v ks (member_and (like_keyed h) hs) = then_alike F (h v) (λ k. members_alike v (joined ks (one_value k)) hs)
  members_alike v ks (member_and (like_remaining h) hs) = bind_alike F h (λ f g e. then_alike F (rest_alike v ks) e)

  pub object_pattern_alike : {ms ns : List Member} → MembersLike F ms ns → PutterLike F (object_pattern ms) (object_pattern ns)
  object_pattern_alike h v = choice_alike F (is_nullish v) (stop_alike F (throws (own pattern_error))) (members_alike v none h)

  advance_alike : (alive : Bool) (it : Value) → Alike F Equal (advance alive it) (advance alive it)
  advance_alike false it = return_alike F at_end
  advance_alike true it = then_alike F (stepped_alike F it) (λ b. choice_alike F b (then_alike F (ask_alike F (of_statement (item it))) (λ v. return_alike F (advanced v))) (return_alike F at_end))

  skipped_alike : (alive : Bool) (it : Value) → Alike F Equal (skipped alive it) (skipped alive it)
  skipped_alike false it = return_alike F false
  skipped_alike true it = stepped_alike F it

  within_alike : (n : ℕ) (it : Value) → Alike F Equal (items_within n it) (items_within n it)
  within_alike zero it = stop_alike F unknown
  within_alike (suc n) it = then_alike F (stepped_alike F it) (λ b. choice_alike F b (then_alike F (ask_alike F (of_statement (item it))) (λ v. then_alike F (within_alike n it) (λ vs. return_alike F (v and vs)))) (return_alike F none))

  items_alike : (alive : Bool) (it : Value) → Alike F Equal (all_items alive it) (all_items alive it)
  items_alike true it s t (agree {c = c} {d = d} {ms = ms} {qs = qs} h g f) = within_alike (suc (length ms)) it (state c ms qs) (state d ms qs) (agree {ms = ms} {qs = qs} h g f)
  items_alike false it s t g = both_give equal g

  close_alike : (alive : Bool) (it : Value) → Alike F Equal (close_where alive it) (close_where alive it)
  close_alike true it = then_alike F (ask_alike F (of_statement (close it))) (done_alike F)
  close_alike false it = return_alike F undefined

  elements_alike : (it : Value) (alive : Bool) {es ds : List Element} → ElementsLike F es ds → Alike F Equal (elements_of it alive es) (elements_of it alive ds)
  elements_alike it alive no_element = close_alike alive it
  elements_alike it alive (element_and like_elision hs) = then_alike F (skipped_alike alive it) (λ b. elements_alike it b hs)
  elements_alike it alive (element_and (like_takes h) hs) =
      bind_alike F (guarded_alike F alive it h) (λ f g e. then_alike F (advance_alike alive it) (λ a. then_alike F (guarded_alike F (is_alive a) it (e (item_of a))) (λ u. elements_alike it (is_alive a) hs)))
  elements_alike it alive (element_and (like_takes_rest h) hs) =
      bind_alike F (guarded_alike F alive it h) (λ f g e. then_alike F (items_alike alive it) (λ vs. then_alike F (ask_alike F (of_statement (array vs))) e))

  pub array_pattern_alike : {es ds : List Element} → ElementsLike F es ds → PutterLike F (array_pattern es) (array_pattern ds)
  array_pattern_alike h v = then_alike F (ask_alike F (of_statement (iterator v))) (λ it. elements_alike it true h)

  pub tagged_alike : (us vs : Values) {m k : M Values} → Alike F Equal m k → (f r : Value) → Alike F Equal (tagged us vs m f r) (tagged us vs k f r)
  tagged_alike us vs h f r = then_alike F (ask_alike F (of_statement (template (own (list us) and own (list vs) and none)))) (λ t. then_alike F h (λ xs. choice_alike F (is_callable f) (call_alike F f r (t and xs)) (stop_alike F uncallable)))
