-- Calls that leave out keys: their shape, and what they become.
use Rattle.std.proofs.Common.{◌≡◌, ◌∙◌, ◌++◌, ◌<◌, ◌≤◌, ◌∷◌, Bool, Global, List, [], Vec, ap, arith, get_or, length, refl, set, subst, sym}
use Rattle.std.proofs.lemmas.Bool.Decides.{nat_tests}
use Rattle.std.specs.Prelude.{◌==◌, ◌&&◌, false, not, true}
use Rattle.std.specs.List.{list_all}
use Rattle.es_tree.specs.Bare.{bare, bare_fields, bare_label, bare_trees}
use Rattle.es_tree.specs.Names.{flag_at}
use Rattle.es_tree.specs.Tree.{Tree, node, Label, Fields, done, ◌then◌, Field, one, many, Trees, empty, ◌before◌, trees}
use Rattle.es_tree.specs.Views.{plain_field, plain_fields}
use Rattle.es_tree.specs.declared.ast_type.AstType.{AstType}
use Rattle.es_tree.specs.declared.ast_type.AstType.TheVariants.{ArrayExpression, CallExpression, StringLiteral}
use Rattle.es_tree.specs.declared.node.Field.{Field as NodeField}
use Rattle.es_tree.specs.declared.node.Field.TheVariants.{Many, Missing, One, Statements}
use Rattle.es_resolution.specs.Declarations.{Bound}
use Rattle.es_helper_calls.specs.HelperCalls.{helper_of}
use Rattle.es_steps.specs.Nodes.{identifier}
use Rattle.es_steps.proofs.FormParts.{and-right}
use Rattle.es_helper_calls.specs.TextLists.{are_texts, is_text_list}
use Rattle.es_excluded_keys.specs.ExcludedKeys.{Shares, has_key_list, is_leaving_out, leaves_out, shares}
use Rattle.lower_excluded_keys.specs.Parts.{hold_texts, is_string, is_text, lists_keys}
use Rattle.lower_excluded_keys.specs.Sharing.{Becomes, IsNamed, SharesArguments, SharesCall}
use Rattle.lower_excluded_keys.specs.declared.constants.MadeConstants.{MadeConstants}
use Rattle.lower_excluded_keys.proofs.Making.{becomes-part, becomes-then}

-- ITS FIELDS: a callee, and a source and a list of keys
pub record KeyCall (fs : List NodeField) : Type 0 where
  pub callee : Tree
  pub source : Tree
  pub keys : Tree
  pub arguments : Vec Tree Global
  pub fields_are : fs ≡ One callee ∷ Many arguments ∷ []
  pub arguments_are : arguments.items ≡ source ∷ keys ∷ []

with-list : (t : Tree) (ts : Vec Tree Global) (us : List Tree) (fs : List NodeField) → ts.items ≡ us → has_key_list (one t then (many (trees us) then plain_fields fs)) ≡ true → KeyCall (One t ∷ Many ts ∷ fs)
with-list t ts [] fs e h = absurd (cc h)
with-list t ts (s ∷ []) fs e h = absurd (cc h)
with-list t ts (s ∷ ks ∷ []) [] e h = record { callee = t; source = s; keys = ks; arguments = ts; fields_are = refl; arguments_are = e }
with-list t ts (s ∷ ks ∷ []) (f ∷ fs) e h = absurd (cc h)
with-list t ts (s ∷ ks ∷ u ∷ us) fs e h = absurd (cc h)

pub key-call : (fs : List NodeField) → has_key_list (plain_fields fs) ≡ true → KeyCall fs
key-call [] h = absurd (cc h)
key-call (Missing ∷ fs) h = absurd (cc h)
key-call (Many ts ∷ fs) h = absurd (cc h)
key-call (Statements ts ∷ fs) h = absurd (cc h)
key-call (One t ∷ []) h = absurd (cc h)
key-call (One t ∷ Missing ∷ fs) h = absurd (cc h)
key-call (One t ∷ One u ∷ fs) h = absurd (cc h)
key-call (One t ∷ Statements us ∷ fs) h = absurd (cc h)
key-call (One t ∷ Many ts ∷ fs) h = with-list t ts ts.items fs refl h

-- the second field is the list of arguments
pub second-is : (fs : List NodeField) (f : NodeField) (call : KeyCall fs) → f ≡ get_or fs 1 f → f ≡ Many call.arguments
second-is fs f call at = at ∙ ap (λ gs. get_or gs 1 f) call.fields_are

abbrev items_in : NodeField → List Tree
items_in (Many ts) = ts.items
items_in f = []

pub arguments-are : (fs : List NodeField) (f : NodeField) (ts : Vec Tree Global) (call : KeyCall fs) → f ≡ get_or fs 1 f → f ≡ Many ts → ts.items ≡ call.source ∷ call.keys ∷ []
arguments-are fs f ts call at is = ap items_in (sym is ∙ second-is fs f call at) ∙ call.arguments_are

-- WHAT IT BECOMES

-- a source that became another, and a name for its keys
named-call : (s keys t u : Tree) (x : Bound) (xs ys : List Bound) (ls ms : List Tree) → Shares true s xs ls t → ys ≡ x ∷ [] → ms ≡ keys ∷ [] → u ≡ identifier x → SharesArguments (s before (keys before empty)) (xs ++ ys) (ls ++ ms) (t before (u before empty))
named-call s keys t u x xs ys ls ms r ye me ue f CallExpression l h =
    subst (λ v. Shares true (node CallExpression l (one f then (many (s before (keys before empty)) then done))) (xs ++ ys) (ls ++ ms) (node CallExpression l (one f then (many (t before (v before empty)) then done)))) (sym ue)
    (subst (λ ns. Shares true (node CallExpression l (one f then (many (s before (keys before empty)) then done))) (xs ++ ys) (ls ++ ns) (node CallExpression l (one f then (many (t before (identifier x before empty)) then done)))) (sym me)
    (subst (λ zs. Shares true (node CallExpression l (one f then (many (s before (keys before empty)) then done))) (xs ++ zs) (ls ++ keys ∷ []) (node CallExpression l (one f then (many (t before (identifier x before empty)) then done)))) (sym ye) (shares x h r)))
named-call s keys t u x xs ys ls ms r ye me ue f _ l h = absurd (cc h)

arguments-of-two : (s keys t u : Tree) (a b c : MadeConstants) → Becomes (Shares true s) bare a b t → Becomes (IsNamed keys) bare b c u → Becomes (SharesArguments (s before (keys before empty))) bare_trees a c (t before (u before empty))
arguments-of-two s keys t u a b c r n =
    becomes-then (Shares true s) (IsNamed keys) (SharesArguments (s before (keys before empty))) bare bare bare_trees (λ v w. v before (w before empty)) (λ xs ys ls ms v w h k. named-call s keys v w k.0 xs ys ls ms h k.1 k.2 k.3)
    (λ v v' w w' e e' i. e i before (e' i before empty)) r n

pub arguments-shared : (items : List Tree) (s keys t u : Tree) (a b c : MadeConstants) → length items ≡ 2 → s ≡ get_or items 0 s → keys ≡ get_or (set items 0 t) 1 keys → Becomes (Shares true s) bare a b t → Becomes (IsNamed keys) bare b c u → Becomes (SharesArguments (trees items)) bare_trees a c (trees (set (set items 0 t) 1 u))
arguments-shared [] s keys t u a b c two e e' r n = absurd (omega (arith, two))
arguments-shared (x ∷ []) s keys t u a b c two e e' r n = absurd (omega (arith, two))
arguments-shared (x ∷ y ∷ z ∷ items) s keys t u a b c two e e' r n = absurd (omega (arith, two))
arguments-shared (x ∷ y ∷ []) s keys t u a b c two e e' r n = arguments-of-two x y t u a b c (subst (λ v. Becomes (Shares true v) bare a b t) e r) (subst (λ v. Becomes (IsNamed v) bare b c u) e' n)

fields-of-two : (t : Tree) (ts : Trees) (us : Trees) (a b : MadeConstants) → Becomes (SharesArguments ts) bare_trees a b us → Becomes (SharesCall (one t then (many ts then done))) bare_fields a b (one t then (many us then done))
fields-of-two t ts us a b r =
    becomes-part (SharesArguments ts) (SharesCall (one t then (many ts then done))) bare_trees bare_fields (λ vs. one t then (many vs then done)) (λ xs ls vs h. h t) (λ vs ws e i. one (bare t) then (many (e i) then done)) r

pub call-shared : (fs : List NodeField) (f : NodeField) (ts us : Vec Tree Global) (a b : MadeConstants) → KeyCall fs → f ≡ get_or fs 1 f → f ≡ Many ts → Becomes (SharesArguments (trees ts.items)) bare_trees a b (trees us.items) → Becomes (SharesCall (plain_fields fs)) bare_fields a b (plain_fields (set fs 1 (Many us)))
call-shared fs f ts us a b call at is r =
    let here = fields-of-two call.callee (trees ts.items) (trees us.items) a b r in
    let items : plain_field (Many ts) ≡ plain_field (Many call.arguments) = ap plain_field (sym is ∙ second-is fs f call at) in
    let whole = subst (λ g. Becomes (SharesCall (one call.callee then (g then done))) bare_fields a b (one call.callee then (many (trees us.items) then done))) items here in
    subst (λ gs. Becomes (SharesCall (plain_fields gs)) bare_fields a b (plain_fields (set gs 1 (Many us)))) (sym call.fields_are) whole

pub node-called : (k : AstType) (l : Label) (fs gs : Fields) (a b : MadeConstants) → leaves_out k l fs ≡ true → Becomes (SharesCall fs) bare_fields a b gs → Becomes (Shares true (node k l fs)) bare a b (node k l gs)
node-called k l fs gs a b leaves r = becomes-part (SharesCall fs) (Shares true (node k l fs)) bare_fields bare (λ hs. node k l hs) (λ xs ls hs h. h k l leaves) (λ hs ks e i. node k (bare_label l) (e i)) r

-- and so its fields have keys
pub keys-listed : (k : AstType) (l : Label) (fs : Fields) → leaves_out k l fs ≡ true → has_key_list fs ≡ true
keys-listed CallExpression l fs h = and-right (not (flag_at 0 l.flags)) (has_key_list fs) h
keys-listed _ l fs h = absurd (cc h)

-- TESTS

pub fewer-arguments : (ts : List Tree) → length ts < 2 → lists_keys (trees ts) ≡ false
fewer-arguments [] l = refl
fewer-arguments (t ∷ []) l = refl
fewer-arguments (t ∷ u ∷ ts) l = absurd (omega (arith, l))

pub more-arguments : (ts : List Tree) → 3 ≤ length ts → lists_keys (trees ts) ≡ false
more-arguments [] l = absurd (omega (arith, l))
more-arguments (t ∷ []) l = absurd (omega (arith, l))
more-arguments (t ∷ u ∷ []) l = absurd (omega (arith, l))
more-arguments (t ∷ u ∷ v ∷ ts) l = refl

pub and-false : (b : Bool) → (b && false) ≡ false
and-false true = refl
and-false false = refl

pub key-list : (t : Tree) (ts : List Tree) → (is_leaving_out (helper_of t) && lists_keys (trees ts)) ≡ has_key_list (one t then (many (trees ts) then done))
key-list t [] = and-false (is_leaving_out (helper_of t))
key-list t (s ∷ []) = and-false (is_leaving_out (helper_of t))
key-list t (s ∷ ks ∷ []) = refl
key-list t (s ∷ ks ∷ u ∷ us) = and-false (is_leaving_out (helper_of t))

pub fewer-fields : (fs : List NodeField) → length fs < 2 → has_key_list (plain_fields fs) ≡ false
fewer-fields [] l = refl
fewer-fields (Missing ∷ []) l = refl
fewer-fields (One t ∷ []) l = refl
fewer-fields (Many ts ∷ []) l = refl
fewer-fields (Statements ts ∷ []) l = refl
fewer-fields (f ∷ g ∷ fs) l = absurd (omega (arith, l))

third-field : (t : Tree) (ts : List Tree) (f : Field) (fs : Fields) → has_key_list (one t then (many (trees ts) then (f then fs))) ≡ false
third-field t [] f fs = refl
third-field t (s ∷ []) f fs = refl
third-field t (s ∷ ks ∷ []) f fs = refl
third-field t (s ∷ ks ∷ u ∷ us) f fs = refl

pub more-fields : (fs : List NodeField) → 3 ≤ length fs → has_key_list (plain_fields fs) ≡ false
more-fields [] l = absurd (omega (arith, l))
more-fields (f ∷ []) l = absurd (omega (arith, l))
more-fields (f ∷ g ∷ []) l = absurd (omega (arith, l))
more-fields (One t ∷ Many ts ∷ f ∷ fs) l = third-field t ts.items (plain_field f) (plain_fields fs)
more-fields (One t ∷ Missing ∷ f ∷ fs) l = refl
more-fields (One t ∷ One u ∷ f ∷ fs) l = refl
more-fields (One t ∷ Statements us ∷ f ∷ fs) l = refl
more-fields (Missing ∷ g ∷ f ∷ fs) l = refl
more-fields (Many ts ∷ g ∷ f ∷ fs) l = refl
more-fields (Statements ts ∷ g ∷ f ∷ fs) l = refl

-- of one at least
pub some-texts : (fs : List NodeField) → 1 ≤ length fs → are_texts (plain_fields fs) ≡ hold_texts (plain_fields fs)
some-texts [] l = absurd (omega (arith, l))
some-texts (f ∷ fs) l = refl

pub list-holds : (l : Label) (fs : Fields) → hold_texts fs ≡ is_text_list (node ArrayExpression l fs)
list-holds l done = refl
list-holds l (f then fs) = refl

some-left : (f : NodeField) (fs : List NodeField) → (length (f ∷ fs) == 0) ≡ false
some-left f fs = grind (arith, nat_tests)

pub string-alone : (l : Label) (fs : List NodeField) → (length fs == 0) ≡ is_string (node StringLiteral l (plain_fields fs))
string-alone l [] = refl
string-alone l (f ∷ fs) = some-left f fs

pub all-texts : (fs : List NodeField) → list_all (λ f. is_text (plain_field f)) fs ≡ are_texts (plain_fields fs)
all-texts [] = refl
all-texts (Missing ∷ fs) = refl
all-texts (Many ts ∷ fs) = refl
all-texts (Statements ts ∷ fs) = refl
all-texts (One (node StringLiteral l done) ∷ fs) = all-texts fs
all-texts (One (node StringLiteral l (f then gs)) ∷ fs) = refl
all-texts (One (node _ l gs) ∷ fs) = refl
