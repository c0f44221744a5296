-- Trees in which names stand for lists of excluded keys mean what they meant, where each name stands for its list.
use Rattle.std.proofs.Common.{◌≡◌, ◌∙◌, ℕ, zero, suc, refl, sym, ap, List, [], ◌∷◌, ◌++◌}
use Rattle.std.proofs.lemmas.Bool.{and_parts, or_right}
use Rattle.std.specs.Prelude.{◌&&◌, Bool, true, false, not, Option, Some, codes}
use Rattle.es_tree.specs.Names.{first_text, flag_at}
use Rattle.es_tree.specs.Scopes.{Declared}
use Rattle.es_tree.specs.Tree.{Tree, node, Label, Fields, done, ◌then◌, Field, one, many, Trees, empty, ◌before◌}
use Rattle.es_tree.specs.Words.{Text}
use Rattle.es_tree.specs.declared.ast_type.AstType.TheVariants.{CallExpression, StringLiteral}
use Rattle.es_tree.specs.declared.helper.Helper.{Helper}
use Rattle.es_tree.specs.declared.helper.Helper.TheVariants.{ObjectWithoutProperties}
use Rattle.es_resolution.specs.Declarations.{Bound}
use Rattle.es_runs.specs.Alike.{SameWorld, is_bad, the_value}
use Rattle.es_runs.specs.Alike.Level.{a_target}
use Rattle.es_runs.specs.Core.{Binding, Silent, World, flag, is_free, value}
use Rattle.es_runs.specs.Core.Binding.{silent}
use Rattle.es_runs.specs.Core.Silent.{keys_name}
use Rattle.es_runs.specs.Machine.{M, Values, ◌>>=◌, return}
use Rattle.es_runs.specs.Machine.Value.{text}
use Rattle.es_runs.specs.Machine.Values.{none as no_values, ◌and◌}
use Rattle.es_runs.proofs.Basic.{then_alike}
use Rattle.es_steps.specs.Nodes.{identifier}
use Rattle.es_statement_runs.specs.Alike.{Quiet, SenseLike, StackSeen}
use Rattle.es_statement_runs.specs.Calls.{call_sense}
use Rattle.es_statement_runs.specs.Helpers.{entry, texts_of, with_text}
use Rattle.es_statement_runs.specs.Helpers.Supply.{by_global}
use Rattle.es_statement_runs.specs.Kinds.{portions, sense}
use Rattle.es_statement_runs.specs.Names.{names_of_all, own_names}
use Rattle.es_statement_runs.specs.Patterns.{rest_of}
use Rattle.es_statement_runs.specs.Places.{Close, CloseField, CloseFields, CloseTrees, HelpersSeen, Take, all_good, avoids, avoids_field, avoids_fields, avoids_trees, placed_at, take, takes_of}
use Rattle.es_statement_runs.specs.Places.Close.{placed, within}
use Rattle.es_statement_runs.specs.Places.CloseField.{close_many, close_missing, close_one, close_statements}
use Rattle.es_statement_runs.specs.Places.CloseFields.{close_done, close_then}
use Rattle.es_statement_runs.specs.Places.CloseTrees.{close_before, close_empty}
use Rattle.es_statement_runs.specs.Senses.{Place, Sense, ends, key_items, keys_where, said_in, with_key}
use Rattle.es_statement_runs.specs.Senses.More.{helper_call, keys_of}
use Rattle.es_statement_runs.proofs.Everywhere.{not_so}
use Rattle.es_statement_runs.proofs.KindsAlike.{inner}
use Rattle.es_statement_runs.proofs.PatternsAlike.{rest_alike}
use Rattle.es_statement_runs.proofs.SensesAlike.{ends_like}
use Rattle.es_helper_calls.specs.HelperCalls.{helper_of}
use Rattle.es_helper_calls.proofs.TextLists.{TextList, Texts, list-is}
use Rattle.es_helper_calls.proofs.TextLists.TextList.{text_list}
use Rattle.es_helper_calls.proofs.TextLists.Texts.{no_text, one_text}
use Rattle.es_excluded_keys.specs.ExcludedKeys.{Shares, SharesAll, SharesBy, SharesIn, has_key_list, is_leaving_out, leaves_out}
use Rattle.es_excluded_keys.specs.ExcludedKeys.Shares.{keeps, shares}
use Rattle.es_excluded_keys.specs.ExcludedKeys.SharesAll.{next, none}
use Rattle.es_excluded_keys.specs.ExcludedKeys.SharesBy.{at_many, at_none, at_one, at_statements}
use Rattle.es_excluded_keys.specs.ExcludedKeys.SharesIn.{ends as no_more, goes}
use Rattle.es_excluded_keys.proofs.TakenCalls.{taken-parts}
use Rattle.es_import_runs.proofs.Callings.{HelperCall, bound_outside, callee_says, first_flag, helper_shape, helpers_, text_named}
use Rattle.es_import_runs.proofs.Callings.HelperCall.{helper_called}
use Rattle.es_import_runs.proofs.ToldPlaces.{sense_heard}
use Rattle.es_constant_runs.proofs.SharedNames.{label_same, own_same, own_use_same}
use Rattle.es_constant_runs.proofs.ToldTrees.{F, Row, at_worlds, bad, strict, tree_heard}

-- NAMES AND LISTS IN PAIRS

abbrev pub AllPaired : (Bound → Tree → Type 0) → List Bound → List Tree → Type 0
AllPaired P [] [] = Unit {0}
AllPaired P (x ∷ xs) (t ∷ ts) = P x t × AllPaired P xs ts
AllPaired P xs ts = ⊥

pub map_paired : (P Q : Bound → Tree → Type 0) → ((x : Bound) (t : Tree) → P x t → Q x t) → (xs : List Bound) (ts : List Tree) → AllPaired P xs ts → AllPaired Q xs ts
map_paired P Q law [] [] h = tt
map_paired P Q law (x ∷ xs) (t ∷ ts) h = (law x t h.0, map_paired P Q law xs ts h.1)
map_paired P Q law [] (t ∷ ts) h = absurd h
map_paired P Q law (x ∷ xs) [] h = absurd h

-- as many names as lists of texts
pub data AsMany : List Bound → List Tree → Type 0 where
  none_each : AsMany [] []
  one_each : {x : Bound} {t : Tree} {xs : List Bound} {ts : List Tree} → TextList t → AsMany xs ts → AsMany (x ∷ xs) (t ∷ ts)

many_both : {xs ys : List Bound} {ls ms : List Tree} → AsMany xs ls → AsMany ys ms → AsMany (xs ++ ys) (ls ++ ms)
many_both none_each k = k
many_both (one_each d h) k = one_each d (many_both h k)

mutual
  pub counted : {deep : Bool} {t u : Tree} {xs : List Bound} {ls : List Tree} → Shares deep t xs ls u → AsMany xs ls
  counted (keeps out h) = counted_in h
  counted (shares {l = l} {f = f} {s = s} {ks = ks} x out h) = many_both (counted h) (one_each (list-is ks (taken-parts l f s ks out).1) none_each)

  counted_in : {deep : ℕ → Bool} {fs gs : Fields} {xs : List Bound} {ls : List Tree} → SharesIn deep fs xs ls gs → AsMany xs ls
  counted_in no_more = none_each
  counted_in (goes h hs) = many_both (counted_by h) (counted_in hs)

  counted_by : {deep : Bool} {f g : Field} {xs : List Bound} {ls : List Tree} → SharesBy deep f xs ls g → AsMany xs ls
  counted_by at_none = none_each
  counted_by (at_one h) = counted h
  counted_by (at_many h) = counted_all h
  counted_by (at_statements h) = counted_all h

  pub counted_all : {deep : Bool} {ts us : Trees} {xs : List Bound} {ls : List Tree} → SharesAll deep ts xs ls us → AsMany xs ls
  counted_all none = none_each
  counted_all (next h hs) = many_both (counted h) (counted_all hs)

module _ (P : Bound → Tree → Type 0) where
  pub parted : {xs : List Bound} {ls : List Tree} → AsMany xs ls → (ys : List Bound) (ms : List Tree) → AllPaired P (xs ++ ys) (ls ++ ms) → AllPaired P xs ls × AllPaired P ys ms
  parted none_each ys ms h = (tt, h)
  parted (one_each d m) ys ms h = let e = parted m ys ms h.1 in ((h.0, e.0), e.1)

-- LISTS OF TEXTS

-- the texts of a list
abbrev pub texts_in : Fields → Values
texts_in (one (node StringLiteral l gs) then fs) = text (first_text l.texts) and texts_in fs
texts_in _ = no_values

abbrev pub listed_in : Tree → Values
listed_in (node k l fs) = texts_in fs

pub texts_are : (fs : Fields) → Texts fs → texts_of fs ≡ Some (texts_in fs)
texts_are ts no_text = refl
texts_are ts (one_text {fs = fs} k h) = ap (with_text (first_text k.texts)) (texts_are fs h)

keys_are : (w : World) (at : ℕ → Place) (fs : Fields) → Texts fs → key_items w (portions at fs) ≡ Some (return (texts_in fs))
keys_are w at ts no_text = refl
keys_are w at ts (one_text {fs = fs} k h) = ap (λ (o : Option (M Values)). with_key (Some (return (text (first_text k.texts)))) o) (keys_are w (λ i. at (suc i)) fs h)

list_says : (w : World) (ls : List Text) (x : Text) (t : Tree) → TextList t → (sense (placed_at by_global w ls x) t).more ≡ keys_of (return (listed_in t))
list_says w ls x t (text_list l fs h) = ap keys_where (keys_are w (λ i. placed_at by_global w [] []) fs h)

-- TREES

-- a name that the second program declares stands for its keys
abbrev pub StandsFor : List (Text × Silent) → Bound → Tree → Type 0
StandsFor es x t = entry es x.name ≡ Some (keys_name (listed_in t))

-- `babelHelpers` is unbound, and in the second world names stand for what these entries say
pub record KeysKnown (es : List (Text × Silent)) (w v : World) : Type 0 where
  pub global : is_free (w.scope helpers_) ≡ true
  pub names : (x : Text) (s : Silent) → entry es x ≡ Some s → v.scope x ≡ silent s

flags_said : (l : Label) (fs : Fields) → leaves_out CallExpression l fs ≡ true → flag_at 0 l.flags ≡ false
flags_said l fs h = not_so (flag_at 0 l.flags) (and_parts (not (flag_at 0 l.flags)) (has_key_list fs) h).0

helper_said : (o : Option Helper) → is_leaving_out o ≡ true → o ≡ Some ObjectWithoutProperties
helper_said (Some ObjectWithoutProperties) h = refl
helper_said _ h = absurd (cc h)

-- such a call
pub shape_of : (l : Label) (f s ks : Tree) → leaves_out CallExpression l (one f then (many (s before (ks before empty)) then done)) ≡ true → HelperCall ObjectWithoutProperties CallExpression l (one f then (many (s before (ks before empty)) then done))
shape_of l f s ks out =
    let mark = flags_said l (one f then (many (s before (ks before empty)) then done)) out in
    let helper : helper_of f ≡ Some ObjectWithoutProperties = helper_said (helper_of f) (taken-parts l f s ks out).0 in
    helper_shape CallExpression l (one f then (many (s before (ks before empty)) then done)) ObjectWithoutProperties (rw (mark, helper) refl)

abbrev called_so : Text
called_so = codes "objectWithoutProperties"

callee_told : (w : World) (l : Label) (f s ks : Tree) → HelperCall ObjectWithoutProperties CallExpression l (one f then (many (s before (ks before empty)) then done)) → is_free (w.scope helpers_) ≡ true → (sense (placed_at by_global w [] []) f).more ≡ helper_call called_so
callee_told w l f s ks (helper_called {j = j} {i = i} {m = m} {gs = gs} {hs = hs} mark a b object name) free =
    let told = text_named (first_text m.texts) ObjectWithoutProperties name in
    callee_says w j i m gs hs a b object told.1 free ∙ ap helper_call (sym told.0)

module _ (hidden : Text → Bool) (es : List (Text × Silent)) (hides : (x : Text) (s : Silent) → entry es x ≡ Some s → hidden x ≡ true) where
  hidden_bad : (x : Text) → hidden x ≡ true → strict hidden a_target x ≡ true
  hidden_bad x h = rw h refl

  pub keys_kept : (ds : List Declared) → all_good (strict hidden) (names_of_all ds) ≡ true → (w v : World) → KeysKnown es w v → KeysKnown es (inner w ds) (inner v ds)
  keys_kept ds good w v k = record {
    global = ap is_free (bound_outside (strict hidden) helpers_ (or_right (hidden helpers_) true refl) ds good w) ∙ k.global;
    names = λ x s e. bound_outside (strict hidden) x (hidden_bad x (hides x s e)) ds good v ∙ k.names x s e;
  }

  module _ (quiet : Quiet (F hidden)) (stack : StackSeen (F hidden)) (seen : HelpersSeen (F hidden)) where
    abbrev pub Rows : Take → Tree → Tree → Type 0
    Rows = Row hidden quiet stack seen (KeysKnown es) keys_kept

    -- what is left out is the same, whether it stands there or a name stands for it
    without_like : (w v : World) → SameWorld hidden w v → (n : Take) (ls : List Text) (x : Text) (f g e d k i : Sense) (vs : Values) → f.more ≡ helper_call called_so → g.more ≡ helper_call called_so → k.more ≡ keys_of (return vs) → i.more ≡ keys_of (return vs) → SenseLike (F hidden) w v (take the_value true) e d →
        SenseLike (F hidden) w v n (call_sense (placed_at by_global w ls x) false f (e ∷ k ∷ [])) (call_sense (placed_at by_global v ls x) false g (d ∷ i ∷ []))
    without_like w v same n ls x f g e d k i vs h1 h2 h3 h4 h =
        let like : SenseLike (F hidden) w v n (ends (value w e.core >>= λ u. rest_of u vs)) (ends (value v d.core >>= λ u. rest_of u vs)) = ends_like (F hidden) quiet w v same n (then_alike (F hidden) h.core.evaluation (λ u. rest_alike (F hidden) u vs)) in
        rw (h1, h2, h3, h4) like

    -- where the call isn't optional
    marked_off : (w v : World) (n : Take) (ls : List Text) (x : Text) (f g : Sense) (us vs : List Sense) (l : Label) → flag l.flags ≡ false → SenseLike (F hidden) w v n (call_sense (placed_at by_global w ls x) false f us) (call_sense (placed_at by_global v ls x) false g vs) →
        SenseLike (F hidden) w v n (call_sense (placed_at by_global w ls x) (flag l.flags) f us) (call_sense (placed_at by_global v ls x) (flag l.flags) g vs)
    marked_off w v n ls x f g us vs l e h = rw e h

    row : (n : Take) (l : Label) (f s ks t : Tree) (x : Bound) → leaves_out CallExpression l (one f then (many (s before (ks before empty)) then done)) ≡ true → StandsFor es x ks → Close (bad hidden) Rows (take the_value true) s t →
        Rows n (node CallExpression l (one f then (many (s before (ks before empty)) then done))) (node CallExpression l (one f then (many (t before (identifier x before empty)) then done)))
    row n l f s ks t x out stands h w v same known ls y =
        let mark = flags_said l (one f then (many (s before (ks before empty)) then done)) out in
        let parts = taken-parts l f s ks out in
        let shape = shape_of l f s ks out in
        let told : (w : World) → is_free (w.scope helpers_) ≡ true → (sense (placed_at by_global w [] []) f).more ≡ helper_call called_so = λ w free. callee_told w l f s ks shape free in
        let free_there : is_free (v.scope helpers_) ≡ true = ap is_free (same.scope helpers_ seen.global) ∙ known.global in
        let inner_source : SenseLike (F hidden) w v (take the_value true) (sense (placed_at by_global w [] []) s) (sense (placed_at by_global v [] []) t) = tree_heard hidden quiet stack seen (KeysKnown es) keys_kept h (at_worlds hidden quiet stack seen (KeysKnown es) keys_kept same known) in
        let named : (sense (placed_at by_global v [] []) (identifier x)).more ≡ keys_of (return (listed_in ks)) = ap (λ (b : Binding). said_in by_global b) (known.names x.name (keys_name (listed_in ks)) stands) in
        sense_heard (F hidden) w v n _ _
        (marked_off w v n ls y (sense (placed_at by_global w [] []) f) (sense (placed_at by_global v [] []) f) _ _ l (sym (first_flag l.flags) ∙ mark)
        (without_like w v same n ls y (sense (placed_at by_global w [] []) f) (sense (placed_at by_global v [] []) f) (sense (placed_at by_global w [] []) s) (sense (placed_at by_global v [] []) t) (sense (placed_at by_global w [] []) ks) (sense (placed_at by_global v [] []) (identifier x)) (listed_in ks) (told w known.global) (told v free_there) (list_says w [] [] ks (list-is ks parts.1)) named inner_source))

    mutual
      pub shares_close : {deep : Bool} {t u : Tree} {xs : List Bound} {ls : List Tree} → Shares deep t xs ls u → AllPaired (StandsFor es) xs ls → (n : Take) → avoids (bad hidden) n t ≡ true → Close (bad hidden) Rows n t u
      shares_close (keeps {k = k} {l = l} {fs = fs} out h) pairs n good =
          let st = is_bad (bad hidden) n.need.level k l.texts in
          let names = all_good (bad hidden) (names_of_all (own_names k fs)) in
          let first = and_parts (not st) (names && avoids_fields (bad hidden) (takes_of n k l.texts l.flags) fs) good in
          let rest = and_parts names (avoids_fields (bad hidden) (takes_of n k l.texts l.flags) fs) first.1 in
          within (not_so st first.0) refl refl (own_same k h) (own_use_same k h) (label_same k h) rest.0 (shares_in h pairs (takes_of n k l.texts l.flags) rest.1)
      shares_close (shares {l = l} {f = f} {s = s} {ks = ks} {t = t} {xs = xs} {ls = ls} x out h) pairs n good =
          let b = bad hidden in
          let c = takes_of n CallExpression l.texts l.flags in
          let source_good = avoids b (take the_value true) s in
          let list_good = avoids_trees b (take the_value true) (ks before empty) in
          let inside_good = (source_good && list_good) && true in
          let first = and_parts (not (is_bad b n.need.level CallExpression l.texts)) (true && (avoids b (c zero) f && inside_good)) good in
          let second = and_parts (avoids b (c zero) f) inside_good first.1 in
          let third = and_parts (source_good && list_good) true second.1 in
          let fourth = and_parts source_good list_good third.0 in
          let d = parted (StandsFor es) (counted h) (x ∷ []) (ks ∷ []) pairs in
          placed (row n l f s ks t x out d.1.0 (shares_close h d.0 (take the_value true) fourth.0))

      shares_in : {deep : ℕ → Bool} {fs gs : Fields} {xs : List Bound} {ls : List Tree} → SharesIn deep fs xs ls gs → AllPaired (StandsFor es) xs ls → (c : ℕ → Take) → avoids_fields (bad hidden) c fs ≡ true → CloseFields (bad hidden) Rows c fs gs
      shares_in no_more pairs c good = close_done
      shares_in (goes {f = f} {fs = fs} {ys = ys} {ms = ms} h hs) pairs c good =
          let g = and_parts (avoids_field (bad hidden) (c zero) f) (avoids_fields (bad hidden) (λ i. c (suc i)) fs) good in
          let d = parted (StandsFor es) (counted_by h) ys ms pairs in
          close_then (shares_by h d.0 (c zero) g.0) (shares_in hs d.1 (λ i. c (suc i)) g.1)

      shares_by : {deep : Bool} {f g : Field} {xs : List Bound} {ls : List Tree} → SharesBy deep f xs ls g → AllPaired (StandsFor es) xs ls → (n : Take) → avoids_field (bad hidden) n f ≡ true → CloseField (bad hidden) Rows n f g
      shares_by at_none pairs n good = close_missing
      shares_by (at_one h) pairs n good = close_one (shares_close h pairs n good)
      shares_by (at_many h) pairs n good = close_many (shares_all h pairs n good)
      shares_by (at_statements h) pairs n good = close_statements (shares_all h pairs n good)

      pub shares_all : {deep : Bool} {ts us : Trees} {xs : List Bound} {ls : List Tree} → SharesAll deep ts xs ls us → AllPaired (StandsFor es) xs ls → (n : Take) → avoids_trees (bad hidden) n ts ≡ true → CloseTrees (bad hidden) Rows n ts us
      shares_all none pairs n good = close_empty
      shares_all (next {t = t} {ts = ts} {ys = ys} {ms = ms} h hs) pairs n good =
          let g = and_parts (avoids (bad hidden) n t) (avoids_trees (bad hidden) n ts) good in
          let d = parted (StandsFor es) (counted h) ys ms pairs in
          close_before (shares_close h d.0 n g.0) (shares_all hs d.1 n g.1)
