-- The pairs of a store, and what is pending.
use Rattle.std.proofs.Common.{◌≡◌, ℕ, ◌+◌, ◌-◌, ◌<◌, ◌&&◌, zero, suc, Bool, true, false, if◌then◌else◌, refl, sym, ◌∙◌, ap, List, [], ◌∷◌, ◌++◌, length, get_or, take, map, arith, length-append, Option}
use Rattle.std.proofs.Math.ListN.{set}
use Rattle.std.proofs.lemmas.Bool.{and_parts, and_from}
use Rattle.std.specs.List.{list_all}
use Rattle.std.specs.Prelude.{Some}
use Rattle.es_tree.specs.Words.{Text}
use Rattle.es_tree.specs.Tree.{Tree, node, Label, fields, many, trees, done, ◌then◌, ◌before◌}
use Rattle.es_tree.specs.Views.{plain_field}
use Rattle.es_tree.specs.declared.ast_type.AstType.TheVariants.{VariableDeclaration}
use Rattle.es_tree.specs.declared.node.Field.{Field}
use Rattle.es_resolution.specs.Seen.{seen, seen_among}
use Rattle.es_changes.specs.Moments.{top}
use Rattle.es_steps.specs.Nodes.{made}
use Rattle.es_steps.specs.Open.{Pending, nothing_pending}
use Rattle.lower_temporaries.specs.Declarators.{declaration_of, declarations_for, declarations_written}
use Rattle.lower_temporaries.specs.SeenTrees.{IsSeenAsOption, is_inert, no_bindings, seen_alone}
use Rattle.lower_temporaries.specs.Stacks.{with_let, with_top, with_var}
use Rattle.lower_temporaries.specs.Store.{are_inert, is_inert_pair, is_inert_pending, pending_in, pendings_in}
use Rattle.lower_temporaries.specs.declared.declarations.Pair.{Pair}
use Rattle.lower_temporaries.proofs.SeenLaws.{inert-seen, is-inert-seen}

-- THE INNERMOST PAIR

-- a list with its last element apart
last_apart : (xs : List Pair) (k : ℕ) (d : Pair) → k + 1 ≡ length xs → xs ≡ take k xs ++ get_or xs k d ∷ []
last_apart [] k d e = absurd (omega arith)
last_apart (x ∷ []) zero d e = refl
last_apart (x ∷ []) (suc k) d e = absurd (omega arith)
last_apart (x ∷ (y ∷ ys)) zero d e = absurd (omega arith)
last_apart (x ∷ (y ∷ ys)) (suc k) d e = let h : k + 1 ≡ length (y ∷ ys) = omega arith in ap (λ l. x ∷ l) (last_apart (y ∷ ys) k d h)

last_set : (xs : List Pair) (k : ℕ) (z : Pair) → k + 1 ≡ length xs → set xs k z ≡ take k xs ++ z ∷ []
last_set [] k z e = absurd (omega arith)
last_set (x ∷ []) zero z e = refl
last_set (x ∷ []) (suc k) z e = absurd (omega arith)
last_set (x ∷ (y ∷ ys)) zero z e = absurd (omega arith)
last_set (x ∷ (y ∷ ys)) (suc k) z e = let h : k + 1 ≡ length (y ∷ ys) = omega arith in ap (λ l. x ∷ l) (last_set (y ∷ ys) k z h)

pub pendings_in-one_more : (xs : List Pair) (y : Pair) → pendings_in (xs ++ y ∷ []) ≡ pending_in y ∷ pendings_in xs
pendings_in-one_more [] y = refl
pendings_in-one_more (x ∷ xs) y = ap (λ l. l ++ pending_in x ∷ []) (pendings_in-one_more xs y)

pub pendings_in-apart : (xs ys : List Pair) (y : Pair) → xs ≡ ys ++ y ∷ [] → pendings_in xs ≡ pending_in y ∷ pendings_in ys
pendings_in-apart xs ys y e = ap pendings_in e ∙ pendings_in-one_more ys y

last_shown : (xs : List Pair) (k : ℕ) (x : Pair) → k + 1 ≡ length xs → x ≡ get_or xs k x → pendings_in xs ≡ pending_in x ∷ pendings_in (take k xs)
last_shown xs k x e h = pendings_in-apart xs (take k xs) (get_or xs k x) (last_apart xs k x e) ∙ ap (λ y. pending_in y ∷ pendings_in (take k xs)) (sym h)

last_changed : (xs : List Pair) (k : ℕ) (z : Pair) → k + 1 ≡ length xs → pendings_in (set xs k z) ≡ pending_in z ∷ pendings_in (take k xs)
last_changed xs k z e = pendings_in-apart (set xs k z) (take k xs) z (last_set xs k z e)

-- another pair for the innermost list
pub changed_top : (xs : List Pair) (k : ℕ) (x z : Pair) (f : Pending → Pending) → k + 1 ≡ length xs → x ≡ get_or xs k x → pending_in z ≡ f (pending_in x) → pendings_in (set xs k z) ≡ with_top f (pendings_in xs)
changed_top xs k x z f e h g =
    last_changed xs k z e ∙ ap (λ p. p ∷ pendings_in (take k xs)) g ∙ sym (ap (with_top f) (last_shown xs k x e h))

pub kept_top : (xs : List Pair) (k : ℕ) (x z : Pair) → k + 1 ≡ length xs → x ≡ get_or xs k x → pending_in z ≡ pending_in x → pendings_in (set xs k z) ≡ pendings_in xs
kept_top xs k x z e h g =
    last_changed xs k z e ∙ ap (λ p. p ∷ pendings_in (take k xs)) g ∙ sym (last_shown xs k x e h)

-- as many pairs as there are statement lists
pub length-pendings_in : (xs : List Pair) → length (pendings_in xs) ≡ length xs
length-pendings_in [] = refl
length-pendings_in (x ∷ xs) =
    let h : length (pendings_in xs) ≡ length xs = length-pendings_in xs in
    let g : length (pendings_in xs ++ pending_in x ∷ []) ≡ length (pendings_in xs) + 1 = length-append (pendings_in xs) (pending_in x ∷ []) in
    omega arith

-- the place of the innermost pair
pub last_place : (xs : List Pair) (n : ℕ) (ps : List Pending) → pendings_in xs ≡ ps → 0 < length ps → n ≡ length xs → n - 1 + 1 ≡ length xs
last_place xs n ps e there g =
    let h : length (pendings_in xs) ≡ length xs = length-pendings_in xs in
    let k : length (pendings_in xs) ≡ length ps = ap length e in
    omega arith

-- a pair more
pub entered : (xs zs : List Pair) (y : Pair) (ps : List Pending) → pendings_in xs ≡ ps → zs ≡ xs ++ y ∷ [] → y.vars.items ≡ [] → y.lets.items ≡ [] → pendings_in zs ≡ nothing_pending ∷ ps
entered xs zs y ps e h v l =
    pendings_in-apart zs xs y h ∙ (λ i. record { vars = map seen_alone (v i); lets = map seen_alone (l i) } ∷ e i)

-- a pair less
pub popped : (xs ys : List Pair) (y : Pair) (ps : List Pending) → pendings_in xs ≡ ps → xs ≡ ys ++ y ∷ [] → ps ≡ pending_in y ∷ pendings_in ys
popped xs ys y ps e h = sym e ∙ pendings_in-apart xs ys y h

-- ONE DECLARATOR MORE

map_more : (ds : List Tree) (d : Tree) → map seen_alone (ds ++ d ∷ []) ≡ map seen_alone ds ++ seen_alone d ∷ []
map_more [] d = refl
map_more (e ∷ ds) d = ap (λ l. seen_alone e ∷ l) (map_more ds d)

pub one_var : (x z : Pair) (d : Tree) → z.vars.items ≡ x.vars.items ++ d ∷ [] → z.lets.items ≡ x.lets.items → pending_in z ≡ with_var (seen_alone d) (pending_in x)
one_var x z d e h = λ i. record { vars = (ap (map seen_alone) e ∙ map_more x.vars.items d) i; lets = map seen_alone (h i) }

pub one_let : (x z : Pair) (d : Tree) → z.vars.items ≡ x.vars.items → z.lets.items ≡ x.lets.items ++ d ∷ [] → pending_in z ≡ with_let (seen_alone d) (pending_in x)
one_let x z d e h = λ i. record { vars = map seen_alone (e i); lets = (ap (map seen_alone) h ∙ map_more x.lets.items d) i }

pub no_more : (x z : Pair) → z.vars.items ≡ x.vars.items → z.lets.items ≡ x.lets.items → pending_in z ≡ pending_in x
no_more x z e h = λ i. record { vars = map seen_alone (e i); lets = map seen_alone (h i) }

-- DECLARATIONS

pub declarations_for-seen : (ds : List Tree) → declarations_for (map seen_alone ds) ≡ declarations_for ds
declarations_for-seen [] = refl
declarations_for-seen (d ∷ ds) = refl

pub written_in : (y : Pair) (ps qs : List Pending) → ps ≡ pending_in y ∷ qs → declarations_written (top ps) ≡ declarations_for y.vars.items + declarations_for y.lets.items
written_in y ps qs e =
    ap (λ p. declarations_written (top p)) e ∙ (λ i. declarations_for-seen y.vars.items i + declarations_for-seen y.lets.items i)

pub inert-trees : (names : ℕ → Text → Option ℕ) (ds : List Tree) → list_all is_inert ds ≡ true → seen_among names (trees ds) ≡ trees (map seen_alone ds)
inert-trees names [] h = refl
inert-trees names (d ∷ ds) h = let p = and_parts (is_inert d) (list_all is_inert ds) h in λ i. inert-seen names d p.0 i before inert-trees names ds p.1 i

-- the node of a declaration, in the memory for its field
pub made_declaration : (kind : Text) (l : Label) (fs : List Field) (f : Field) (ds : List Tree) → record l { id = 0; marks = [] } ≡ made (Some kind ∷ []) [] → plain_field f ≡ many (trees ds) → list_all is_inert ds ≡ true → length fs ≡ declarations_for ds → 0 < length ds → IsSeenAsOption (Some (node VariableDeclaration l (fields (map plain_field (set fs 0 f))))) (declaration_of kind (map seen_alone ds))
made_declaration kind l fs f [] g e c n h = absurd (omega arith)
made_declaration kind l [] f (d ∷ ds) g e c n h = absurd (omega arith)
made_declaration kind l (x ∷ (y ∷ fs)) f (d ∷ ds) g e c n h = absurd (omega arith)
made_declaration kind l (x ∷ []) f (d ∷ ds) g e c n h = λ names.
    ap (λ x. seen names (node VariableDeclaration l (x then done))) e
    ∙ (λ i. node VariableDeclaration (g i) (many (inert-trees names (d ∷ ds) c i) then done))

-- INERT DECLARATORS

all-more : {X : Type 0} (p : X → Bool) (xs : List X) (x : X) → list_all p xs ≡ true → p x ≡ true → list_all p (xs ++ x ∷ []) ≡ true
all-more p [] x h e = and_from (p x) true e refl
all-more p (y ∷ xs) x h e = let a = and_parts (p y) (list_all p xs) h in and_from (p y) (list_all p (xs ++ x ∷ [])) a.0 (all-more p xs x a.1 e)

all-set : {X : Type 0} (p : X → Bool) (xs : List X) (k : ℕ) (x : X) → list_all p xs ≡ true → p x ≡ true → list_all p (set xs k x) ≡ true
all-set p [] k x h e = refl
all-set p (y ∷ xs) zero x h e = let a = and_parts (p y) (list_all p xs) h in and_from (p x) (list_all p xs) e a.1
all-set p (y ∷ xs) (suc k) x h e = let a = and_parts (p y) (list_all p xs) h in and_from (p y) (list_all p (set xs k x)) a.0 (all-set p xs k x a.1 e)

all-at : {X : Type 0} (p : X → Bool) (xs : List X) (k : ℕ) (d : X) → list_all p xs ≡ true → k < length xs → p (get_or xs k d) ≡ true
all-at p [] k d h l = absurd (omega (arith, l))
all-at p (y ∷ xs) zero d h l = (and_parts (p y) (list_all p xs) h).0
all-at p (y ∷ xs) (suc k) d h l = all-at p xs k d (and_parts (p y) (list_all p xs) h).1 (omega (arith, l))

-- a pair with another in its place
pub pair-changed : (xs : List Pair) (k : ℕ) (x z : Pair) → are_inert xs ≡ true → k < length xs → x ≡ get_or xs k x → (is_inert_pair x ≡ true → is_inert_pair z ≡ true) → are_inert (set xs k z) ≡ true
pair-changed xs k x z h l e f = all-set is_inert_pair xs k z h (f (ap is_inert_pair e ∙ all-at is_inert_pair xs k x h l))

maybe-more : (ds : List Tree) (d : Tree) (b : Bool) → list_all is_inert ds ≡ true → is_inert d ≡ true → list_all is_inert (if b then ds ++ d ∷ [] else ds) ≡ true
maybe-more ds d true h e = all-more is_inert ds d h e
maybe-more ds d false h e = h

-- that has, or hasn't, a declarator more
pub more-vars : (x z : Pair) (d : Tree) (b : Bool) → z.vars.items ≡ (if b then x.vars.items ++ d ∷ [] else x.vars.items) → z.lets.items ≡ x.lets.items → is_inert d ≡ true → is_inert_pair x ≡ true → is_inert_pair z ≡ true
more-vars x z d b e g h c =
    let p = and_parts (list_all is_inert x.vars.items) (list_all is_inert x.lets.items) c in
    and_from (list_all is_inert z.vars.items) (list_all is_inert z.lets.items) (ap (list_all is_inert) e ∙ maybe-more x.vars.items d b p.0 h) (ap (list_all is_inert) g ∙ p.1)

pub more-lets : (x z : Pair) (d : Tree) (b : Bool) → z.vars.items ≡ x.vars.items → z.lets.items ≡ (if b then x.lets.items ++ d ∷ [] else x.lets.items) → is_inert d ≡ true → is_inert_pair x ≡ true → is_inert_pair z ≡ true
more-lets x z d b e g h c =
    let p = and_parts (list_all is_inert x.vars.items) (list_all is_inert x.lets.items) c in
    and_from (list_all is_inert z.vars.items) (list_all is_inert z.lets.items) (ap (list_all is_inert) e ∙ p.0) (ap (list_all is_inert) g ∙ maybe-more x.lets.items d b p.1 h)

-- so are those that are pending
all-seen : (ds : List Tree) → list_all is_inert (map seen_alone ds) ≡ list_all is_inert ds
all-seen [] = refl
all-seen (d ∷ ds) = λ i. is-inert-seen no_bindings d i && all-seen ds i

pendings-inert : (xs : List Pair) → are_inert xs ≡ true → list_all is_inert_pending (pendings_in xs) ≡ true
pendings-inert [] h = refl
pendings-inert (x ∷ xs) h =
    let p = and_parts (is_inert_pair x) (are_inert xs) h in
    all-more is_inert_pending (pendings_in xs) (pending_in x) (pendings-inert xs p.1) ((λ i. all-seen x.vars.items i && all-seen x.lets.items i) ∙ p.0)

top-of-all : (ps : List Pending) → list_all is_inert_pending ps ≡ true → is_inert_pending (top ps) ≡ true
top-of-all [] h = refl
top-of-all (p ∷ ps) h = (and_parts (is_inert_pending p) (list_all is_inert_pending ps) h).0

pub top-inert : (xs : List Pair) (ps : List Pending) → pendings_in xs ≡ ps → are_inert xs ≡ true → is_inert_pending (top ps) ≡ true
top-inert xs ps e h = ap (λ qs. is_inert_pending (top qs)) (sym e) ∙ top-of-all (pendings_in xs) (pendings-inert xs h)

pub last-below : (xs : List Pair) (n : ℕ) (ps : List Pending) → pendings_in xs ≡ ps → 0 < length ps → n ≡ length xs → n - 1 < length xs
last-below xs n ps e there g = omega (arith, last_place xs n ps e there g)
