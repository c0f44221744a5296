-- Loops over parts as they are seen, and what is seen of a node whose fields were walked.
use Rattle.std.proofs.Common.{◌≡◌, ◌∙◌, ◌<◌, ◌≤◌, ◌+◌, ℕ, sym, ap, subst, length, List, get_or, set, true}
use Rattle.std.specs.Prelude.{Bool, false, Option}
use Rattle.std.proofs.lemmas.List.{length-map, map-set}
use Rattle.std.proofs.Math.ListN.{get_or-map}
use Rattle.es_tree.specs.HasForm.{same_type}
use Rattle.es_tree.specs.Tree.{Tree, node, Label, Fields, fields, trees}
use Rattle.es_tree.specs.Views.{plain_field, plain_fields}
use Rattle.es_tree.specs.Words.{Text}
use Rattle.es_tree.specs.declared.ast_type.AstType.{AstType}
use Rattle.es_tree.specs.declared.ast_type.AstType.TheVariants.{ArrowFunctionExpression, ThisExpression}
use Rattle.es_tree.specs.declared.node.Field.{Field as NodeField}
use Rattle.es_resolution.specs.Declarations.{Bound}
use Rattle.es_resolution.specs.Seen.{seen, seen_among, seen_in, seen_marks}
use Rattle.es_changes.specs.Moments.{Moment}
use Rattle.es_traverse.specs.Laws.{Seen, SeenAmong}
use Rattle.es_traverse.proofs.ClassNames.{marks-stay}
use Rattle.es_traverse.proofs.FieldVisits.{fields-seen, seen_field, seen_fields}
use Rattle.es_traverse.proofs.ListVisits.{seen_trees, trees-seen}
use Rattle.lower_arrows.specs.Functions.{SeenField}
use Rattle.lower_arrows.specs.Walks.{AreInside, Walked, WalkedField, WalkedFields, WalkedTrees}
use Rattle.lower_arrows.proofs.Inward.{inside-node, inward, sites}
use Rattle.lower_arrows.proofs.Loops.{FieldsSoFar, TreesSoFar, fields-all, fields-more, fields-none, trees-all, trees-more, trees-none}
use Rattle.lower_arrows.proofs.Nodes.{fields-formed, node-walked}

-- FIELDS

abbrev pub FieldsSeen : Bool → AstType → Moment → Option Bound → List NodeField → Moment → Option Bound → List NodeField → ℕ → Type 0
FieldsSeen o k a x first b y items i = (names : ℕ → Text → Option ℕ) → FieldsSoFar o k a x (seen_fields names first) b y (seen_fields names items) i

pub fields-seen-none : (o : Bool) (k : AstType) (a : Moment) (x : Option Bound) (first : List NodeField) → FieldsSeen o k a x first a x first 0
fields-seen-none o k a x first names = fields-none o k a x (seen_fields names first)

pub fields-seen-more : (o : Bool) (k : AstType) {a b e : Moment} {x y z : Option Bound} (first items : List NodeField) (i : ℕ) (d g : NodeField) → i < length items → get_or items i d ≡ get_or first i d →
    SeenField (λ f h. WalkedField o k i b y f e z h) (plain_field (get_or items i d)) (plain_field g) → FieldsSeen o k a x first b y items i → FieldsSeen o k a x first e z (set items i g) (i + 1)
fields-seen-more o k {a} {b} {e} {x} {y} {z} first items i d g lt same w h names =
    let at : get_or (seen_fields names items) i (seen_field names d) ≡ seen_field names (get_or items i d) = get_or-map (seen_field names) items i d in
    let was : get_or (seen_fields names first) i (seen_field names d) ≡ seen_field names (get_or first i d) = get_or-map (seen_field names) first i d in
    let count : length (seen_fields names items) ≡ length items = length-map items (seen_field names) in
    let more = fields-more o k (seen_fields names first) (seen_fields names items) i (seen_field names d) (seen_field names g) (subst (λ n. i < n) (sym count) lt) (at ∙ ap (seen_field names) same ∙ sym was)
    (subst (λ f. WalkedField o k i b y f e z (seen_field names g)) (sym at) (w names)) (h names) in
    subst (λ xs. FieldsSoFar o k a x (seen_fields names first) e z xs (i + 1)) (sym (map-set (seen_field names) items i g)) more

pub fields-seen-all : (o : Bool) (k : AstType) (a b : Moment) (x y : Option Bound) (first items : List NodeField) (i : ℕ) → length items ≤ i → FieldsSeen o k a x first b y items i →
    (names : ℕ → Text → Option ℕ) → WalkedFields o k a x (seen_in names (plain_fields first)) b y (seen_in names (plain_fields items))
fields-seen-all o k a b x y first items i le h names =
    let count : length (seen_fields names items) ≡ length items = length-map items (seen_field names) in
    let all = fields-all o k a b x y (seen_fields names first) (seen_fields names items) i (subst (λ n. n ≤ i) (sym count) le) (h names) in
    subst (λ fs. WalkedFields o k a x fs b y (seen_in names (plain_fields items))) (sym (fields-seen names first)) (subst (λ gs. WalkedFields o k a x (fields (seen_fields names first)) b y gs) (sym (fields-seen names items)) all)

-- LISTS

abbrev pub TreesSeen : Bool → Moment → Option Bound → List Tree → Moment → Option Bound → List Tree → ℕ → Type 0
TreesSeen o a x first b y items i = (names : ℕ → Text → Option ℕ) → TreesSoFar o a x (seen_trees names first) b y (seen_trees names items) i

pub trees-seen-none : (o : Bool) (a : Moment) (x : Option Bound) (first : List Tree) → TreesSeen o a x first a x first 0
trees-seen-none o a x first names = trees-none o a x (seen_trees names first)

pub trees-seen-more : (o : Bool) {a b e : Moment} {x y z : Option Bound} (first items : List Tree) (i : ℕ) (d u : Tree) → i < length items → get_or items i d ≡ get_or first i d → Seen (λ t v. Walked o b y t e z v) (get_or items i d) u → TreesSeen o a x first b y items i → TreesSeen o a x first e z (set items i u) (i + 1)
trees-seen-more o {a} {b} {e} {x} {y} {z} first items i d u lt same w h names =
    let at : get_or (seen_trees names items) i (seen names d) ≡ seen names (get_or items i d) = get_or-map (seen names) items i d in
    let was : get_or (seen_trees names first) i (seen names d) ≡ seen names (get_or first i d) = get_or-map (seen names) first i d in
    let count : length (seen_trees names items) ≡ length items = length-map items (seen names) in
    let more = trees-more o (seen_trees names first) (seen_trees names items) i (seen names d) (seen names u) (subst (λ n. i < n) (sym count) lt) (at ∙ ap (seen names) same ∙ sym was)
    (subst (λ t. Walked o b y t e z (seen names u)) (sym at) (w names)) (h names) in
    subst (λ xs. TreesSoFar o a x (seen_trees names first) e z xs (i + 1)) (sym (map-set (seen names) items i u)) more

pub trees-seen-all : (o : Bool) (a b : Moment) (x y : Option Bound) (first items : List Tree) (i : ℕ) → length items ≤ i → TreesSeen o a x first b y items i → SeenAmong (λ ts us. WalkedTrees o a x ts b y us) (trees first) (trees items)
trees-seen-all o a b x y first items i le h names =
    let count : length (seen_trees names items) ≡ length items = length-map items (seen names) in
    let all = trees-all o a b x y (seen_trees names first) (seen_trees names items) i (subst (λ n. n ≤ i) (sym count) le) (h names) in
    subst (λ ts. WalkedTrees o a x ts b y (seen_among names (trees items))) (sym (trees-seen names first)) (subst (λ us. WalkedTrees o a x (trees (seen_trees names first)) b y us) (sym (trees-seen names items)) all)

-- A NODE: what is seen of a class by its own name stays

pub node-seen : (o : Bool) (a b : Moment) (x y : Option Bound) (k : AstType) (m : Label) (fs gs : Fields) (names : ℕ → Text → Option ℕ) → same_type k ArrowFunctionExpression ≡ false → (o ≡ true → same_type k ThisExpression ≡ false) → WalkedFields o k a x (seen_in names fs) b y (seen_in names gs) →
    Walked o a x (seen names (node k m fs)) b y (seen names (node k m gs))
node-seen o a b x y k m fs gs names other this w =
    let l : Label = record m { id = 0; marks = seen_marks names k m fs } in
    node-walked o a x k l (seen_in names fs) b y (seen_in names gs) w (record m { id = 0; marks = seen_marks names k m gs }) (λ n e h text.
    let after = fields-formed o a x k l (seen_in names fs) b y (seen_in names gs) w n e h text in
    let own = w.own (sites n k l (seen_in names fs)) (subst (λ (v : Bool). AreInside v k (sites n k l (seen_in names fs))) e (inside-node n k l (seen_in names fs) h)) (inward n k l (seen_in names fs) h) text in
    ap (λ ms. record m { id = 0; marks = ms }) (marks-stay names m n k l fs gs h.sort h.sort h.formed after own)) other this
