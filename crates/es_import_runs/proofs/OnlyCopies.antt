-- Trees in which no name but in calls of the helper of object spread is `babelHelpers`; keys and labels may be.
use Rattle.std.proofs.Common.{◌≡◌, ◌∙◌, ℕ, zero, suc, refl, sym, ap, subst, List, [], ◌∷◌, ◌++◌}
use Rattle.std.proofs.lemmas.Bool.{and_from, and_parts}
use Rattle.std.proofs.lemmas.Slice.Eq.{bytes_eq-Decides}
use Rattle.std.specs.List.{list_all}
use Rattle.std.specs.Prelude.{◌&&◌, ◌||◌, Bool, true, false, not, Option, Some, None, bytes_eq, codes, if◌then◌else◌}
use Rattle.es_tree.specs.Bare.{bare, bare_field, bare_fields, bare_label, bare_trees}
use Rattle.es_tree.specs.Names.{first_text, flag_at}
use Rattle.es_tree.specs.Tree.{Tree, node, Label, Fields, done, ◌then◌, Field, missing, one, many, statements, Trees, empty, ◌before◌}
use Rattle.es_tree.specs.Walks.{all_in_field, all_in_fields, all_in_trees, all_nodes}
use Rattle.es_tree.specs.declared.ast_type.AstType.{AstType}
use Rattle.es_tree.specs.declared.ast_type.AstType.TheVariants.{CallExpression, Identifier, MemberExpression, ChainExpression, ParenthesizedExpression, Program, VariableDeclarator}
use Rattle.es_tree.specs.declared.helper.Helper.{Helper}
use Rattle.es_tree.specs.declared.helper.Helper.TheVariants.{ObjectSpread2, ToPropertyKey}
use Rattle.es_resolution.specs.Declarations.{Bound}
use Rattle.es_resolution.proofs.AllForms.{All, AllAmong, AllBy, AllIn}
use Rattle.es_semantic.specs.RolesOf.{reads, role_at}
use Rattle.es_semantic.specs.declared.place.Role.{Role}
use Rattle.es_semantic.specs.declared.place.Role.TheVariants.{Nothing, Binds, Refers}
use Rattle.es_tree.specs.Words.{Text}
use Rattle.es_resolution.specs.Named.{Named, NamedAll, NamedBy, NamedIn, OwnUsed}
use Rattle.es_resolution.proofs.Roles.{role-same}
use Rattle.es_reached.proofs.BareNodes.{has-child-bare}
use Rattle.es_steps.specs.Nodes.{identifier}
use Rattle.es_statement_runs.specs.HelperMembers.{first_is_helpers, is_helpers_object, no_helper_member}
use Rattle.es_helper_calls.specs.HelperCalls.{calling, calling_among, calling_by, calling_here, calling_in, handed_on, helper_of, helpers_among, helpers_in, helpers_in_field, helpers_in_fields, is_called, is_dotted, is_helper, named_helper, own_helper, used_helper}
use Rattle.es_helper_calls.proofs.Callees.{handed-some, here-called}
use Rattle.es_helper_imports.proofs.BareCalls.{bare-used}
use Rattle.es_statement_steps.proofs.AvoidedNames.{AtNames, AtNamesAll, AtNamesBy, AtNamesIn, OwnAt, is_aimed}
use Rattle.es_import_runs.proofs.CalledNames.{Plainly}
use Rattle.es_import_runs.proofs.Callings.{HelperCall, both_some, helper_shape, member_helper}
use Rattle.es_import_runs.proofs.Callings.HelperCall.{helper_called, helper_passed}

-- whether what is called is that helper
abbrev pub copies : Option Helper → Bool
copies None = false
copies (Some h) = is_helper ObjectSpread2 h

abbrev pub is_name_kind : AstType → Bool
is_name_kind Identifier = true
is_name_kind _ = false

abbrev pub is_nothing : Role → Bool
is_nothing Nothing = true
is_nothing _ = false

-- a name is another
abbrev pub name_other : Role → AstType → Label → Bool
name_other r Identifier l = is_nothing r || not (bytes_eq (first_text l.texts) (codes "babelHelpers"))
name_other r k l = true

abbrev mutual
  -- what the helper is called by may name that object
  pub only_copies : Role → Tree → Bool
  only_copies r (node k l fs) = name_other r k l && (is_name_kind k || copies_in (copies (used_helper k l fs)) (role_at r k l fs) fs)

  -- in fields of which the first is passed over, or none
  pub copies_in : Bool → (ℕ → Role) → Fields → Bool
  copies_in passed roles done = true
  copies_in passed roles (f then fs) = (passed || copies_by (roles zero) f) && copies_in false (λ i. roles (suc i)) fs

  pub copies_by : Role → Field → Bool
  copies_by r missing = true
  copies_by r (one t) = only_copies r t
  copies_by r (many ts) = copies_among r ts
  copies_by r (statements ts) = copies_among r ts

  pub copies_among : Role → Trees → Bool
  copies_among r empty = true
  copies_among r (t before ts) = only_copies r t && copies_among r ts

-- PARTS

pub any_copies : (b : Bool) (roles : ℕ → Role) (fs : Fields) → copies_in false roles fs ≡ true → copies_in b roles fs ≡ true
any_copies b roles done h = refl
any_copies true roles (f then fs) h = (and_parts (copies_by (roles zero) f) (copies_in false (λ i. roles (suc i)) fs) h).1
any_copies false roles (f then fs) h = h

or_other : (a b : Bool) → (a || b) ≡ true → a ≡ false → b ≡ true
or_other true b h e = absurd (cc h)
or_other false b h e = h

-- a node but a name has such fields
pub fields_copies : (r : Role) (k : AstType) (l : Label) (fs : Fields) → is_name_kind k ≡ false → only_copies r (node k l fs) ≡ true → copies_in (copies (used_helper k l fs)) (role_at r k l fs) fs ≡ true
fields_copies r k l fs e h =
    let b = copies_in (copies (used_helper k l fs)) (role_at r k l fs) fs in
    or_other (is_name_kind k) b (and_parts (name_other r k l) (is_name_kind k || b) h).1 e

pub or_more : (a b : Bool) → b ≡ true → (a || b) ≡ true
or_more true b h = refl
or_more false b h = h

pub node_copies : (r : Role) (k : AstType) (l : Label) (fs : Fields) → name_other r k l ≡ true → copies_in (copies (used_helper k l fs)) (role_at r k l fs) fs ≡ true → only_copies r (node k l fs) ≡ true
node_copies r k l fs h g =
    let b = copies_in (copies (used_helper k l fs)) (role_at r k l fs) fs in
    and_from (name_other r k l) (is_name_kind k || b) h (or_more (is_name_kind k) b g)

-- WHERE NO NAME IN USE IS THAT OBJECT

module _ (free : ℕ) (used : Text → Bool) (unused : used (codes "babelHelpers") ≡ false) where
  unlike : (x : Text) → used x ≡ true → not (bytes_eq x (codes "babelHelpers")) ≡ true
  unlike x h = at (bytes_eq x (codes "babelHelpers")) refl
    where
      at : (b : Bool) → bytes_eq x (codes "babelHelpers") ≡ b → not b ≡ true
      at true e = let no : true ≡ false = sym h ∙ ap used ((bytes_eq-Decides x (codes "babelHelpers")).0 e) ∙ unused in absurd (cc no)
      at false e = refl

  own_copies : (r : Role) (k : AstType) (l : Label) → OwnUsed used r k l → name_other r k l ≡ true
  own_copies Nothing Identifier l h = refl
  own_copies _ Identifier l h = unlike (first_text l.texts) h
  own_copies r _ l h = refl

  mutual
    pub named_copies : (r : Role) (t : Tree) → Named used free r t → only_copies r t ≡ true
    named_copies r (node k l fs) h = node_copies r k l fs (own_copies r k l h.0.0) (any_copies (copies (used_helper k l fs)) (role_at r k l fs) fs (named_in (role_at r k l fs) fs h.1))

    named_in : (roles : ℕ → Role) (fs : Fields) → NamedIn used free roles fs → copies_in false roles fs ≡ true
    named_in roles done h = refl
    named_in roles (f then fs) h = and_from (copies_by (roles zero) f) (copies_in false (λ i. roles (suc i)) fs) (named_by (roles zero) f h.0) (named_in (λ i. roles (suc i)) fs h.1)

    named_by : (r : Role) (f : Field) → NamedBy used free r f → copies_by r f ≡ true
    named_by r missing h = refl
    named_by r (one t) h = named_copies r t h
    named_by r (many ts) h = named_among r ts h
    named_by r (statements ts) h = named_among r ts h

    named_among : (r : Role) (ts : Trees) → NamedAll used free r ts → copies_among r ts ≡ true
    named_among r empty h = refl
    named_among r (t before ts) h = and_from (only_copies r t) (copies_among r ts) (named_copies r t h.0) (named_among r ts h.1)

-- IDS AND MARKS mean nothing

name_bare : (r : Role) (k : AstType) (l : Label) → name_other r k (bare_label l) ≡ name_other r k l
name_bare r Identifier l = refl
name_bare r _ l = refl

label_bare : (r : Role) (k : AstType) (l : Label) (fs : Fields) (i : ℕ) → role_at r k (bare_label l) fs i ≡ role_at r k l fs i
label_bare r Program l fs i = refl
label_bare r _ l fs i = refl

roles_bare : (r : Role) (k : AstType) (l : Label) (fs : Fields) → role_at r k (bare_label l) (bare_fields fs) ≡ role_at r k l fs
roles_bare r k l fs = role-same r k (bare_label l) fs (bare_fields fs) (λ i. has-child-bare i fs) ∙ (λ j i. label_bare r k l fs i j)

mutual
  copies_bare : (r : Role) (t : Tree) → only_copies r (bare t) ≡ only_copies r t
  copies_bare r (node k l fs) =
      let below : copies_in (copies (used_helper k (bare_label l) (bare_fields fs))) (role_at r k (bare_label l) (bare_fields fs)) (bare_fields fs) ≡ copies_in (copies (used_helper k l fs)) (role_at r k l fs) fs =
      (λ i. copies_in (copies (bare-used k l fs i)) (roles_bare r k l fs i) (bare_fields fs)) ∙ bare_in (copies (used_helper k l fs)) (role_at r k l fs) fs in
      λ i. name_bare r k l i && (is_name_kind k || below i)

  bare_in : (b : Bool) (roles : ℕ → Role) (fs : Fields) → copies_in b roles (bare_fields fs) ≡ copies_in b roles fs
  bare_in b roles done = refl
  bare_in b roles (f then fs) = λ i. (b || bare_by (roles zero) f i) && bare_in false (λ i. roles (suc i)) fs i

  bare_by : (r : Role) (f : Field) → copies_by r (bare_field f) ≡ copies_by r f
  bare_by r missing = refl
  bare_by r (one t) = copies_bare r t
  bare_by r (many ts) = bare_among r ts
  bare_by r (statements ts) = bare_among r ts

  bare_among : (r : Role) (ts : Trees) → copies_among r (bare_trees ts) ≡ copies_among r ts
  bare_among r empty = refl
  bare_among r (t before ts) = λ i. copies_bare r t i && bare_among r ts i

pub same_copies : (r : Role) (t u : Tree) → bare t ≡ bare u → only_copies r t ≡ true → only_copies r u ≡ true
same_copies r t u e h = sym (copies_bare r u) ∙ ap (only_copies r) (sym e) ∙ copies_bare r t ∙ h

-- A CALL OF A HELPER there is one of this

not_true : (b : Bool) → b ≡ true → not b ≡ true → ⊥
not_true true e h = cc h
not_true false e h = cc e

-- no member of that object is only a copy
not_object : (o : Tree) → is_called (codes "babelHelpers") o ≡ true → only_copies reads o ≡ true → ⊥
not_object (node Identifier i gs) e h = not_true (bytes_eq (first_text i.texts) (codes "babelHelpers")) e (and_parts (name_other reads Identifier i) true h).0
not_object (node _ i gs) e h = cc e

not_helper : (t : Tree) (h : Helper) → helper_of t ≡ Some h → only_copies reads t ≡ true → ⊥
not_helper (node MemberExpression j (one o then (one (node Identifier m hs) then done))) h e n =
    let named = both_some (is_dotted j) (is_called (codes "babelHelpers") o) (named_helper (first_text m.texts)) h e in
    let inner = role_at reads MemberExpression j (one o then (one (node Identifier m hs) then done)) in
    let first : only_copies reads o ≡ true = (and_parts (only_copies reads o) (copies_in false (λ n. inner (suc n)) (one (node Identifier m hs) then done)) (fields_copies reads MemberExpression j (one o then (one (node Identifier m hs) then done)) refl n)).0 in
    not_object o named.1.0 first
not_helper _ h e n = cc e

-- what is handed on copies nothing
pub handed_other : (o : Option Helper) (h : Helper) → handed_on o ≡ Some h → is_helper ObjectSpread2 h ≡ false
handed_other None h e = absurd (cc e)
handed_other (Some ToPropertyKey) h e = let same : ToPropertyKey ≡ h = cc in ap (λ g. is_helper ObjectSpread2 g) (sym same)
handed_other (Some _) h e = absurd (cc e)

never_both : (b : Bool) → b ≡ false → b ≡ true → ⊥
never_both true e h = cc e
never_both false e h = cc h

pub called_copies : {k : AstType} {l : Label} {fs : Fields} (r : Role) (h : Helper) → HelperCall h k l fs → copies_in (copies (Some h)) (role_at r k l fs) fs ≡ true → is_helper ObjectSpread2 h ≡ true
called_copies r h (helper_called {l = l} {j = j} {i = i} {m = m} {gs = gs} {hs = hs} {fs = fs} mark a b object name) c = at (is_helper ObjectSpread2 h) refl
  where
    at : (d : Bool) → is_helper ObjectSpread2 h ≡ d → d ≡ true
    at true g = refl
    at false g =
        let f = node MemberExpression j (one (node Identifier i gs) then (one (node Identifier m hs) then done)) in
        let roles = role_at r CallExpression l (one f then fs) in
        let all : copies_in false roles (one f then fs) ≡ true = sym (ap (λ (q : Bool). copies_in q roles (one f then fs)) g) ∙ c in
        let member : only_copies reads f ≡ true = (and_parts (only_copies reads f) (copies_in false (λ n. roles (suc n)) fs) all).0 in
        let inner = role_at reads MemberExpression j (one (node Identifier i gs) then (one (node Identifier m hs) then done)) in
        let first : only_copies reads (node Identifier i gs) ≡ true =
        (and_parts (only_copies reads (node Identifier i gs)) (copies_in false (λ n. inner (suc n)) (one (node Identifier m hs) then done)) (fields_copies reads MemberExpression j (one (node Identifier i gs) then (one (node Identifier m hs) then done)) refl member)).0 in
        absurd (not_true (bytes_eq (first_text i.texts) (codes "babelHelpers")) ((bytes_eq-Decides (first_text i.texts) (codes "babelHelpers")).1 object) (and_parts (name_other reads Identifier i) true first).0)
called_copies r h (helper_passed {l = l} {f = f} {t = t} {fs = fs} e) c =
    let roles = role_at r CallExpression l (one f then (many (t before empty) then fs)) in
    let all : copies_in false roles (one f then (many (t before empty) then fs)) ≡ true = subst (λ (q : Bool). copies_in q roles (one f then (many (t before empty) then fs)) ≡ true) (handed_other (helper_of t) h e) c in
    let arguments : ((only_copies reads t && true) && copies_in false (λ n. roles (suc (suc n))) fs) ≡ true = (and_parts (only_copies reads f) ((only_copies reads t && true) && copies_in false (λ n. roles (suc (suc n))) fs) all).1 in
    absurd (not_helper t h (handed-some (helper_of t) h e) (and_parts (only_copies reads t) true (and_parts (only_copies reads t && true) (copies_in false (λ n. roles (suc (suc n))) fs) arguments).0).0)

-- the fields, but for the first or all of them
abbrev passing : Bool → Fields → Fields
passing true (f then fs) = fs
passing b fs = fs

-- CALLED BY NAMES, no member is one of that object

other_name : (b : Bool) → not b ≡ true → b ≡ false
other_name true h = absurd (cc h)
other_name false h = refl

module _ (c : Helper → Bound) where
  abbrev named : Helper → Tree
  named h = identifier (c h)

  -- what is read is another object
  mutual
    called_object : (o : Tree) → only_copies reads o ≡ true → is_helpers_object (calling named o) ≡ false
    called_object (node Identifier l fs) h = other_name (bytes_eq (first_text l.texts) (codes "babelHelpers")) (and_parts (name_other reads Identifier l) true h).0
    called_object (node ParenthesizedExpression l fs) h = called_first (role_at reads ParenthesizedExpression l fs) fs refl h
    called_object (node ChainExpression l fs) h = called_first (role_at reads ChainExpression l fs) fs refl h
    called_object (node VariableDeclarator l fs) h = called_first (role_at reads VariableDeclarator l fs) fs refl h
    called_object (node _ l fs) h = refl

    called_first : (roles : ℕ → Role) (fs : Fields) → roles zero ≡ reads → copies_in false roles fs ≡ true → first_is_helpers (calling_in named fs) ≡ false
    called_first roles done e h = refl
    called_first roles (missing then fs) e h = refl
    called_first roles (one t then fs) e h = called_object t (subst (λ (r : Role). only_copies r t ≡ true) e (and_parts (only_copies (roles zero) t) (copies_in false (λ i. roles (suc i)) fs) h).0)
    called_first roles (many ts then fs) e h = refl
    called_first roles (statements ts then fs) e h = refl

  member_now : (r : Role) (k : AstType) (l : Label) (fs : Fields) → only_copies r (node k l fs) ≡ true → no_helper_member k l (calling_here named (used_helper k l fs) (calling_in named fs)) ≡ true
  member_now r MemberExpression l fs h = ap not (called_first (role_at r MemberExpression l fs) fs refl h)
  member_now r _ l fs h = refl

  below_other : (r : Role) (k : AstType) (l : Label) (fs : Fields) → All Plainly (node k l fs) → (o : Option Helper) → used_helper k l fs ≡ o →
      (copies_in (copies o) (role_at r k l fs) fs ≡ true → all_in_fields no_helper_member (passing (copies o) (calling_in named fs)) ≡ true) → (is_name_kind k || copies_in (copies o) (role_at r k l fs) fs) ≡ true → all_in_fields no_helper_member (calling_here named o (calling_in named fs)) ≡ true
  below_other r Identifier l fs plain None e f h = ap (λ (gs : Fields). all_in_fields no_helper_member (calling_in named gs)) plain.0
  below_other r Identifier l fs plain (Some g) e f h = absurd (cc e)
  below_other r CallExpression l fs plain None e f h = f h
  below_other r CallExpression l fs plain (Some g) e f h = let shape = helper_shape CallExpression l fs g e in call_other shape (called_copies r g shape h) (f h)
    where
      call_other : {k : AstType} {l : Label} {fs : Fields} → HelperCall g k l fs → is_helper ObjectSpread2 g ≡ true → all_in_fields no_helper_member (passing (copies (Some g)) (calling_in named fs)) ≡ true → all_in_fields no_helper_member (calling_here named (Some g) (calling_in named fs)) ≡ true
      call_other (helper_called {j = j} {i = i} {m = m} {gs = gs} {hs = hs} {fs = fs} mark a b object name) this f =
          let u = node MemberExpression j (one (node Identifier i gs) then (one (node Identifier m hs) then done)) in
          let rest : all_in_fields no_helper_member (calling_in named fs) ≡ true = subst (λ (q : Bool). all_in_fields no_helper_member (passing q (one (calling named u) then calling_in named fs)) ≡ true) this f in
          subst (λ (new : Fields). all_in_fields no_helper_member new ≡ true) (sym (here-called named u fs g (member_helper g j i m gs hs a b object name))) (and_from (all_nodes no_helper_member (named g)) (all_in_fields no_helper_member (calling_in named fs)) refl rest)
      call_other (helper_passed e) this f = absurd (never_both (is_helper ObjectSpread2 g) (handed_other _ g e) this)
  below_other r _ l fs plain None e f h = f h
  below_other r _ l fs plain (Some g) e f h = absurd (cc e)

  mutual
    pub named_other : (r : Role) (t : Tree) → All Plainly t → only_copies r t ≡ true → all_nodes no_helper_member (calling named t) ≡ true
    named_other r (node k l fs) plain h =
        let d = and_parts (name_other r k l) (is_name_kind k || copies_in (copies (used_helper k l fs)) (role_at r k l fs) fs) h in
        let gs = calling_here named (used_helper k l fs) (calling_in named fs) in
        and_from (no_helper_member k l gs) (all_in_fields no_helper_member gs) (member_now r k l fs h) (below_other r k l fs plain (used_helper k l fs) refl (fields_other (copies (used_helper k l fs)) (role_at r k l fs) fs plain.1) d.1)

    fields_other : (b : Bool) (roles : ℕ → Role) (fs : Fields) → AllIn Plainly fs → copies_in b roles fs ≡ true → all_in_fields no_helper_member (passing b (calling_in named fs)) ≡ true
    fields_other true roles done plain h = refl
    fields_other false roles done plain h = refl
    fields_other true roles (f then fs) plain h = fields_other false (λ n. roles (suc n)) fs plain.1 h
    fields_other false roles (f then fs) plain h =
        let d = and_parts (copies_by (roles zero) f) (copies_in false (λ n. roles (suc n)) fs) h in
        and_from (all_in_field no_helper_member (calling_by named f)) (all_in_fields no_helper_member (calling_in named fs)) (field_other (roles zero) f plain.0 d.0) (fields_other false (λ n. roles (suc n)) fs plain.1 d.1)

    field_other : (r : Role) (f : Field) → AllBy Plainly f → copies_by r f ≡ true → all_in_field no_helper_member (calling_by named f) ≡ true
    field_other r missing plain h = refl
    field_other r (one t) plain h = named_other r t plain h
    field_other r (many ts) plain h = trees_other r ts plain h
    field_other r (statements ts) plain h = trees_other r ts plain h

    trees_other : (r : Role) (ts : Trees) → AllAmong Plainly ts → copies_among r ts ≡ true → all_in_trees no_helper_member (calling_among named ts) ≡ true
    trees_other r empty plain h = refl
    trees_other r (t before ts) plain h = let d = and_parts (only_copies r t) (copies_among r ts) h in and_from (all_nodes no_helper_member (calling named t)) (all_in_trees no_helper_member (calling_among named ts)) (named_other r t plain.0 d.0) (trees_other r ts plain.1 d.1)

-- NO OTHER HELPER is called

abbrev AllSpread : List Helper → Type 0
AllSpread hs = list_all (λ h. is_helper ObjectSpread2 h) hs ≡ true

both_spread : (gs hs : List Helper) → AllSpread gs → AllSpread hs → AllSpread (gs ++ hs)
both_spread [] hs h k = k
both_spread (g ∷ gs) hs h k = let d = and_parts (is_helper ObjectSpread2 g) (list_all (λ h. is_helper ObjectSpread2 h) gs) h in and_from (is_helper ObjectSpread2 g) (list_all (λ h. is_helper ObjectSpread2 h) (gs ++ hs)) d.0 (both_spread gs hs d.1 k)

none_in : (fs : Fields) → fs ≡ done → AllSpread (helpers_in_fields fs)
none_in fs e = ap (λ (gs : Fields). list_all (λ h. is_helper ObjectSpread2 h) (helpers_in_fields gs)) e

below_spread : (r : Role) (k : AstType) (l : Label) (fs : Fields) → All Plainly (node k l fs) → (o : Option Helper) → used_helper k l fs ≡ o → (copies_in (copies o) (role_at r k l fs) fs ≡ true → AllSpread (helpers_in_fields (passing (copies o) fs))) →
    (is_name_kind k || copies_in (copies o) (role_at r k l fs) fs) ≡ true → AllSpread (helpers_in_fields fs ++ own_helper o)
below_spread r Identifier l fs plain None e f h = both_spread (helpers_in_fields fs) [] (none_in fs plain.0) refl
below_spread r Identifier l fs plain (Some g) e f h = absurd (cc e)
below_spread r CallExpression l fs plain None e f h = both_spread (helpers_in_fields fs) [] (f h) refl
below_spread r CallExpression l fs plain (Some g) e f h = let shape = helper_shape CallExpression l fs g e in call_spread shape (called_copies r g shape h) plain.1 (f h)
  where
    call_spread : {k : AstType} {l : Label} {fs : Fields} → HelperCall g k l fs → is_helper ObjectSpread2 g ≡ true → AllIn Plainly fs → AllSpread (helpers_in_fields (passing (copies (Some g)) fs)) → AllSpread (helpers_in_fields fs ++ own_helper (Some g))
    call_spread (helper_called {j = j} {i = i} {m = m} {gs = gs} {hs = hs} {fs = fs} mark a b object name) this plain r =
        let f = node MemberExpression j (one (node Identifier i gs) then (one (node Identifier m hs) then done)) in
        let first : AllSpread (helpers_in f) =
        both_spread ((helpers_in_fields gs ++ []) ++ ((helpers_in_fields hs ++ []) ++ [])) [] (both_spread (helpers_in_fields gs ++ []) ((helpers_in_fields hs ++ []) ++ []) (both_spread (helpers_in_fields gs) [] (none_in gs plain.0.1.0.0) refl) (both_spread (helpers_in_fields hs ++ []) [] (both_spread (helpers_in_fields hs) [] (none_in hs plain.0.1.1.0.0) refl) refl)) refl in
        let rest : AllSpread (helpers_in_fields fs) = subst (λ (q : Bool). AllSpread (helpers_in_fields (passing q (one f then fs)))) this r in
        both_spread (helpers_in f ++ helpers_in_fields fs) (g ∷ []) (both_spread (helpers_in f) (helpers_in_fields fs) first rest) (and_from (is_helper ObjectSpread2 g) true this refl)
    call_spread (helper_passed e) this plain r = absurd (never_both (is_helper ObjectSpread2 g) (handed_other _ g e) this)
below_spread r _ l fs plain None e f h = both_spread (helpers_in_fields fs) [] (f h) refl
below_spread r _ l fs plain (Some g) e f h = absurd (cc e)

mutual
  pub helpers_spread : (r : Role) (t : Tree) → All Plainly t → only_copies r t ≡ true → AllSpread (helpers_in t)
  helpers_spread r (node k l fs) plain h =
      below_spread r k l fs plain (used_helper k l fs) refl (fields_spread (copies (used_helper k l fs)) (role_at r k l fs) fs plain.1) (and_parts (name_other r k l) (is_name_kind k || copies_in (copies (used_helper k l fs)) (role_at r k l fs) fs) h).1

  fields_spread : (b : Bool) (roles : ℕ → Role) (fs : Fields) → AllIn Plainly fs → copies_in b roles fs ≡ true → AllSpread (helpers_in_fields (passing b fs))
  fields_spread true roles done plain h = refl
  fields_spread false roles done plain h = refl
  fields_spread true roles (f then fs) plain h = fields_spread false (λ n. roles (suc n)) fs plain.1 h
  fields_spread false roles (f then fs) plain h =
      let d = and_parts (copies_by (roles zero) f) (copies_in false (λ n. roles (suc n)) fs) h in
      both_spread (helpers_in_field f) (helpers_in_fields fs) (field_spread (roles zero) f plain.0 d.0) (fields_spread false (λ n. roles (suc n)) fs plain.1 d.1)

  field_spread : (r : Role) (f : Field) → AllBy Plainly f → copies_by r f ≡ true → AllSpread (helpers_in_field f)
  field_spread r missing plain h = refl
  field_spread r (one t) plain h = helpers_spread r t plain h
  field_spread r (many ts) plain h = trees_spread r ts plain h
  field_spread r (statements ts) plain h = trees_spread r ts plain h

  trees_spread : (r : Role) (ts : Trees) → AllAmong Plainly ts → copies_among r ts ≡ true → AllSpread (helpers_among ts)
  trees_spread r empty plain h = refl
  trees_spread r (t before ts) plain h = let d = and_parts (only_copies r t) (copies_among r ts) h in both_spread (helpers_in t) (helpers_among ts) (helpers_spread r t plain.0 d.0) (trees_spread r ts plain.1 d.1)

-- NOTHING BINDS OR WRITES that object

abbrev pub not_aimed : Role → Label → Type 0
not_aimed r l = is_aimed r ≡ true → bytes_eq (first_text l.texts) (codes "babelHelpers") ≡ false

no_fields : (roles : ℕ → Role) (fs : Fields) → fs ≡ done → AtNamesIn not_aimed roles fs
no_fields roles fs e = subst (λ (gs : Fields). AtNamesIn not_aimed roles gs) (sym e) tt

own_aims : (r : Role) (k : AstType) (l : Label) → name_other r k l ≡ true → OwnAt not_aimed r k l
own_aims (Binds b) Identifier l h = λ e. other_name (bytes_eq (first_text l.texts) (codes "babelHelpers")) h
own_aims (Refers f) Identifier l h = λ e. other_name (bytes_eq (first_text l.texts) (codes "babelHelpers")) h
own_aims _ Identifier l h = λ e. absurd (cc e)
own_aims r _ l h = tt

key_aims : (b : Bool) (x : Label) → not_aimed (if b then reads else Nothing) x
key_aims true x = λ e. absurd (cc e)
key_aims false x = λ e. absurd (cc e)

-- in fields of which the first is passed over, or none
abbrev AimsIn : Bool → (ℕ → Role) → Fields → Type 0
AimsIn true roles (f then fs) = AtNamesIn not_aimed (λ n. roles (suc n)) fs
AimsIn b roles fs = AtNamesIn not_aimed roles fs

below_aims : (k : AstType) (l : Label) (fs : Fields) (r : Role) → All Plainly (node k l fs) → (o : Option Helper) → used_helper k l fs ≡ o → (copies_in (copies o) (role_at r k l fs) fs ≡ true → AimsIn (copies o) (role_at r k l fs) fs) →
    (is_name_kind k || copies_in (copies o) (role_at r k l fs) fs) ≡ true → AtNamesIn not_aimed (role_at r k l fs) fs
below_aims Identifier l fs r plain o e f h = no_fields (role_at r Identifier l fs) fs plain.0
below_aims CallExpression l fs r plain None e f h = f h
below_aims CallExpression l fs r plain (Some g) e f h = let shape = helper_shape CallExpression l fs g e in call_aims shape (called_copies r g shape h) (role_at r CallExpression l fs) plain.1 (f h)
  where
    call_aims : {k : AstType} {l : Label} {fs : Fields} → HelperCall g k l fs → is_helper ObjectSpread2 g ≡ true → (roles : ℕ → Role) → AllIn Plainly fs → AimsIn (copies (Some g)) roles fs → AtNamesIn not_aimed roles fs
    call_aims (helper_called {j = j} {i = i} {m = m} {gs = gs} {hs = hs} {fs = fs} mark a b object name) this roles plain rest =
        let u = node MemberExpression j (one (node Identifier i gs) then (one (node Identifier m hs) then done)) in (
          (tt, (((λ e. absurd (cc e)), no_fields _ gs plain.0.1.0.0), ((key_aims (flag_at 0 j.flags) m, no_fields _ hs plain.0.1.1.0.0), tt))),
          subst (λ (q : Bool). AimsIn q roles (one u then fs)) this rest,
        )
    call_aims (helper_passed e) this roles plain rest = absurd (never_both (is_helper ObjectSpread2 g) (handed_other _ g e) this)
below_aims _ l fs r plain None e f h = f h
below_aims _ l fs r plain (Some g) e f h = absurd (cc e)

mutual
  pub aims_at : (t : Tree) (r : Role) → All Plainly t → only_copies r t ≡ true → AtNames not_aimed r t
  aims_at (node k l fs) r plain h =
      let d = and_parts (name_other r k l) (is_name_kind k || copies_in (copies (used_helper k l fs)) (role_at r k l fs) fs) h in
      (own_aims r k l d.0, below_aims k l fs r plain (used_helper k l fs) refl (fields_aim (copies (used_helper k l fs)) fs (role_at r k l fs) plain.1) d.1)

  fields_aim : (b : Bool) (fs : Fields) (roles : ℕ → Role) → AllIn Plainly fs → copies_in b roles fs ≡ true → AimsIn b roles fs
  fields_aim true done roles plain h = tt
  fields_aim false done roles plain h = tt
  fields_aim true (f then fs) roles plain h = fields_aim false fs (λ n. roles (suc n)) plain.1 h
  fields_aim false (f then fs) roles plain h =
      let d = and_parts (copies_by (roles zero) f) (copies_in false (λ n. roles (suc n)) fs) h in
      (field_aims f (roles zero) plain.0 d.0, fields_aim false fs (λ n. roles (suc n)) plain.1 d.1)

  field_aims : (f : Field) (r : Role) → AllBy Plainly f → copies_by r f ≡ true → AtNamesBy not_aimed r f
  field_aims missing r plain h = tt
  field_aims (one t) r plain h = aims_at t r plain h
  field_aims (many ts) r plain h = trees_aim ts r plain h
  field_aims (statements ts) r plain h = trees_aim ts r plain h

  trees_aim : (ts : Trees) (r : Role) → AllAmong Plainly ts → copies_among r ts ≡ true → AtNamesAll not_aimed r ts
  trees_aim empty r plain h = tt
  trees_aim (t before ts) r plain h = let d = and_parts (only_copies r t) (copies_among r ts) h in (aims_at t r plain.0 d.0, trees_aim ts r plain.1 d.1)
