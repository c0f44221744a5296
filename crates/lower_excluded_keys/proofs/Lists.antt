-- Lists of nodes and fields in which names stand for lists of keys, one part more at a time.
use Rattle.std.proofs.Common.{◌≡◌, ◌∙◌, ◌++◌, ◌+◌, ◌<◌, ◌≤◌, ◌∷◌, Bool, List, [], ap, append-nil, append_assoc, get_or, length, refl, set, subst, suc, sym, take, zero, ℕ}
use Rattle.std.specs.Prelude.{◌&&◌, false}
use Rattle.es_tree.specs.Bare.{bare, bare_field, bare_fields, bare_label, bare_trees}
use Rattle.es_tree.specs.Tree.{Tree, node, Label, Fields, done, ◌then◌, Field, missing, one, many, statements, Trees, empty, ◌before◌, trees}
use Rattle.es_tree.specs.Views.{plain_field, plain_fields}
use Rattle.es_tree.specs.declared.ast_type.AstType.{AstType}
use Rattle.es_tree.specs.declared.node.Field.{Field as NodeField}
use Rattle.es_resolution.specs.Declarations.{Bound}
use Rattle.es_steps.specs.Nodes.{joined_trees}
use Rattle.es_helper_imports.proofs.BareTops.{bare-joined}
use Rattle.es_excluded_keys.specs.ExcludedKeys.{Shares, SharesAll, SharesBy, SharesIn, at_many, at_none, at_one, at_statements, ends, goes, is_below, keeps, leaves_out, next, none}
use Rattle.lower_fresh_names.proofs.Along.{field_added, fields-added, trees-added}
use Rattle.lower_excluded_keys.specs.Sharing.{Becomes}
use Rattle.lower_excluded_keys.specs.declared.constants.MadeConstants.{MadeConstants}
use Rattle.lower_excluded_keys.proofs.Making.{becomes-none, becomes-part, becomes-then}
use Rattle.lower_excluded_keys.proofs.Walked.{SoFar, so-far-all, so-far-next, so-far-none}

-- LISTS

all-same : {deep : Bool} {ts us : Trees} (xs ys : List Bound) (ls ms : List Tree) → xs ≡ ys → ls ≡ ms → SharesAll deep ts xs ls us → SharesAll deep ts ys ms us
all-same {deep} {ts} {us} xs ys ls ms e e' h = subst (λ ms. SharesAll deep ts ys ms us) e' (subst (λ ys. SharesAll deep ts ys ls us) e h)

all-joined : {deep : Bool} {ts us : Trees} {t u : Tree} {xs ys : List Bound} {ls ms : List Tree} → SharesAll deep ts xs ls us → Shares deep t ys ms u → SharesAll deep (joined_trees ts (t before empty)) (xs ++ ys) (ls ++ ms) (joined_trees us (u before empty))
all-joined {ys = ys} {ms = ms} none s = all-same (ys ++ []) ys (ms ++ []) ms (append-nil ys) (append-nil ms) (next s none)
all-joined {ys = ys} {ms = ms} (next {xs = xs} {ys = zs} {ls = ls} {ms = ns} h r) s =
    all-same (xs ++ (zs ++ ys)) ((xs ++ zs) ++ ys) (ls ++ (ns ++ ms)) ((ls ++ ns) ++ ms) (sym (append_assoc xs zs ys)) (sym (append_assoc ls ns ms)) (next h (all-joined r s))

-- what a list has become
abbrev pub ListBecomes : Bool → MadeConstants → MadeConstants → List Tree → List Tree → Type 0
ListBecomes deep a b ts us = Becomes (SharesAll deep (trees ts)) bare_trees a b (trees us)

list-more : (deep : Bool) (a b c : MadeConstants) (ts us : List Tree) (t u : Tree) → Becomes (Shares deep t) bare b c u → ListBecomes deep a b ts us → ListBecomes deep a c (ts ++ t ∷ []) (us ++ u ∷ [])
list-more deep a b c ts us t u s r =
    let all = joined_trees (trees ts) (t before empty) in
    let both : Becomes (SharesAll deep all) bare_trees a c (joined_trees (trees us) (u before empty)) =
    becomes-then (SharesAll deep (trees ts)) (Shares deep t) (SharesAll deep all) bare_trees bare bare_trees (λ vs v. joined_trees vs (v before empty)) (λ xs ys ls ms vs v h k. all-joined h k)
    (λ vs ws v w e e'. bare-joined vs (v before empty) ∙ (λ i. joined_trees (e i) (e' i before empty)) ∙ sym (bare-joined ws (w before empty))) r s in
    subst (λ vs. Becomes (SharesAll deep (trees (ts ++ t ∷ []))) bare_trees a c vs) (sym (trees-added us u)) (subst (λ vs. Becomes (SharesAll deep vs) bare_trees a c (joined_trees (trees us) (u before empty))) (sym (trees-added ts t)) both)

abbrev pub ListSoFar : Bool → MadeConstants → MadeConstants → List Tree → List Tree → ℕ → Type 0
ListSoFar deep a b first items i = SoFar (ListBecomes deep a b) first items i

pub list-none : (deep : Bool) (a : MadeConstants) (ts : List Tree) → ListSoFar deep a a ts ts 0
list-none deep a ts = so-far-none (ListBecomes deep a a) ts (becomes-none (SharesAll deep empty) bare_trees a empty none)

pub list-next : (deep : Bool) (a b c : MadeConstants) (first items : List Tree) (i : ℕ) (t u : Tree) → i < length first → t ≡ get_or items i t → Becomes (Shares deep t) bare b c u → ListSoFar deep a b first items i → ListSoFar deep a c first (set items i u) (i + 1)
list-next deep a b c first items i t u l is s h = so-far-next (ListBecomes deep a b) (ListBecomes deep a c) first items i t u l is (λ count r. list-more deep a b c (take i first) (take i items) t u s r) h

pub list-all : (deep : Bool) (a b : MadeConstants) (first items : List Tree) (i : ℕ) → length items ≤ i → ListSoFar deep a b first items i → ListBecomes deep a b first items
list-all deep a b first items i l h = so-far-all (ListBecomes deep a b) first items i l h

-- FIELDS

abbrev count : Fields → ℕ
count done = zero
count (f then fs) = suc (count fs)

plain-count : (fs : List NodeField) → count (plain_fields fs) ≡ length fs
plain-count [] = refl
plain-count (f ∷ fs) = ap suc (plain-count fs)

in-same : {deep : ℕ → Bool} {fs gs : Fields} (xs ys : List Bound) (ls ms : List Tree) → xs ≡ ys → ls ≡ ms → SharesIn deep fs xs ls gs → SharesIn deep fs ys ms gs
in-same {deep} {fs} {gs} xs ys ls ms e e' h = subst (λ ms. SharesIn deep fs ys ms gs) e' (subst (λ ys. SharesIn deep fs ys ls gs) e h)

in-added : {deep : ℕ → Bool} {fs gs : Fields} {f g : Field} {xs ys : List Bound} {ls ms : List Tree} → SharesIn deep fs xs ls gs → SharesBy (deep (count fs)) f ys ms g → SharesIn deep (field_added fs f) (xs ++ ys) (ls ++ ms) (field_added gs g)
in-added {ys = ys} {ms = ms} ends s = in-same (ys ++ []) ys (ms ++ []) ms (append-nil ys) (append-nil ms) (goes s ends)
in-added {ys = ys} {ms = ms} (goes {xs = xs} {ys = zs} {ls = ls} {ms = ns} h r) s =
    in-same (xs ++ (zs ++ ys)) ((xs ++ zs) ++ ys) (ls ++ (ns ++ ms)) ((ls ++ ns) ++ ms) (sym (append_assoc xs zs ys)) (sym (append_assoc ls ns ms)) (goes h (in-added r s))

bare-added : (fs : Fields) (f : Field) → bare_fields (field_added fs f) ≡ field_added (bare_fields fs) (bare_field f)
bare-added done f = refl
bare-added (g then fs) f = λ i. bare_field g then bare-added fs f i

-- what fields have become
abbrev pub FieldsBecome : (ℕ → Bool) → MadeConstants → MadeConstants → List NodeField → List NodeField → Type 0
FieldsBecome deep a b fs gs = Becomes (SharesIn deep (plain_fields fs)) bare_fields a b (plain_fields gs)

fields-more : (deep : ℕ → Bool) (a b c : MadeConstants) (fs gs : List NodeField) (f g : NodeField) → Becomes (SharesBy (deep (length fs)) (plain_field f)) bare_field b c (plain_field g) → FieldsBecome deep a b fs gs → FieldsBecome deep a c (fs ++ f ∷ []) (gs ++ g ∷ [])
fields-more deep a b c fs gs f g s r =
    let all = field_added (plain_fields fs) (plain_field f) in
    let here = subst (λ n. Becomes (SharesBy (deep n) (plain_field f)) bare_field b c (plain_field g)) (sym (plain-count fs)) s in
    let both : Becomes (SharesIn deep all) bare_fields a c (field_added (plain_fields gs) (plain_field g)) =
    becomes-then (SharesIn deep (plain_fields fs)) (SharesBy (deep (count (plain_fields fs))) (plain_field f)) (SharesIn deep all) bare_fields bare_field bare_fields field_added (λ xs ys ls ms hs h k m. in-added k m)
    (λ hs ks h k e e'. bare-added hs h ∙ (λ i. field_added (e i) (e' i)) ∙ sym (bare-added ks k)) r here in
    subst (λ hs. Becomes (SharesIn deep (plain_fields (fs ++ f ∷ []))) bare_fields a c hs) (sym (fields-added gs g)) (subst (λ hs. Becomes (SharesIn deep hs) bare_fields a c (field_added (plain_fields gs) (plain_field g))) (sym (fields-added fs f)) both)

abbrev pub FieldsSoFar : (ℕ → Bool) → MadeConstants → MadeConstants → List NodeField → List NodeField → ℕ → Type 0
FieldsSoFar deep a b first items i = SoFar (FieldsBecome deep a b) first items i

pub fields-none : (deep : ℕ → Bool) (a : MadeConstants) (fs : List NodeField) → FieldsSoFar deep a a fs fs 0
fields-none deep a fs = so-far-none (FieldsBecome deep a a) fs (becomes-none (SharesIn deep done) bare_fields a done ends)

pub fields-next : (deep : ℕ → Bool) (here : Bool) (a b c : MadeConstants) (first items : List NodeField) (i : ℕ) (f g : NodeField) → i < length first → f ≡ get_or items i f → here ≡ deep i → Becomes (SharesBy here (plain_field f)) bare_field b c (plain_field g) → FieldsSoFar deep a b first items i → FieldsSoFar deep a c first (set items i g) (i + 1)
fields-next deep here a b c first items i f g l is at s h =
    so-far-next (FieldsBecome deep a b) (FieldsBecome deep a c) first items i f g l is
    (λ counted r. fields-more deep a b c (take i first) (take i items) f g (subst (λ d. Becomes (SharesBy d (plain_field f)) bare_field b c (plain_field g)) (at ∙ ap deep (sym counted)) s) r) h

pub fields-all : (deep : ℕ → Bool) (a b : MadeConstants) (first items : List NodeField) (i : ℕ) → length items ≤ i → FieldsSoFar deep a b first items i → FieldsBecome deep a b first items
fields-all deep a b first items i l h = so-far-all (FieldsBecome deep a b) first items i l h

-- ONE FIELD

pub none-shared : (deep : Bool) (a : MadeConstants) → Becomes (SharesBy deep missing) bare_field a a missing
none-shared deep a = becomes-none (SharesBy deep missing) bare_field a missing at_none

pub one-shared : (deep : Bool) (a b : MadeConstants) (t u : Tree) → Becomes (Shares deep t) bare a b u → Becomes (SharesBy deep (one t)) bare_field a b (one u)
one-shared deep a b t u r = becomes-part (Shares deep t) (SharesBy deep (one t)) bare bare_field (λ v. one v) (λ xs ls v h. at_one h) (λ v w e i. one (e i)) r

pub many-shared : (deep : Bool) (a b : MadeConstants) (ts us : Trees) → Becomes (SharesAll deep ts) bare_trees a b us → Becomes (SharesBy deep (many ts)) bare_field a b (many us)
many-shared deep a b ts us r = becomes-part (SharesAll deep ts) (SharesBy deep (many ts)) bare_trees bare_field (λ vs. many vs) (λ xs ls vs h. at_many h) (λ vs ws e i. many (e i)) r

pub statements-shared : (deep : Bool) (a b : MadeConstants) (ts us : Trees) → Becomes (SharesAll deep ts) bare_trees a b us → Becomes (SharesBy deep (statements ts)) bare_field a b (statements us)
statements-shared deep a b ts us r = becomes-part (SharesAll deep ts) (SharesBy deep (statements ts)) bare_trees bare_field (λ vs. statements vs) (λ xs ls vs h. at_statements h) (λ vs ws e i. statements (e i)) r

-- A NODE that is no such call

pub node-shared : (deep : Bool) (k : AstType) (l : Label) (fs gs : Fields) (a b : MadeConstants) → (deep && leaves_out k l fs) ≡ false → Becomes (SharesIn (is_below deep k) fs) bare_fields a b gs → Becomes (Shares deep (node k l fs)) bare a b (node k l gs)
node-shared deep k l fs gs a b stays r = becomes-part (SharesIn (is_below deep k) fs) (Shares deep (node k l fs)) bare_fields bare (λ hs. node k l hs) (λ xs ls hs h. keeps stays h) (λ hs ks e i. node k (bare_label l) (e i)) r
