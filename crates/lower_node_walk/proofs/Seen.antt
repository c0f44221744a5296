-- Loops over parts as they are seen.
use Rattle.std.proofs.Common.{◌≡◌, ◌∙◌, ◌<◌, ◌≤◌, ◌+◌, ℕ, sym, ap, subst, length, List, get_or, set}
use Rattle.std.specs.Prelude.{Option}
use Rattle.std.proofs.lemmas.List.{length-map, map-set}
use Rattle.std.proofs.Math.ListN.{get_or-map}
use Rattle.es_tree.specs.Tree.{Tree, fields, trees}
use Rattle.es_tree.specs.Views.{plain_field, plain_fields}
use Rattle.es_tree.specs.Words.{Text}
use Rattle.es_tree.specs.declared.node.Field.{Field as NodeField}
use Rattle.es_resolution.specs.Seen.{seen, seen_among, seen_by, seen_in}
use Rattle.es_changes.specs.Moments.{Moment}
use Rattle.es_traverse.specs.Laws.{Seen, SeenAmong}
use Rattle.es_traverse.proofs.FieldVisits.{fields-seen, seen_field, seen_fields}
use Rattle.es_traverse.proofs.ListVisits.{seen_trees, trees-seen}
use Rattle.lower_nodes.specs.Nodes.{NodeProfile}
use Rattle.lower_node_walk.specs.Walks.{Walked, WalkedField, WalkedFields, WalkedTrees}
use Rattle.lower_node_walk.proofs.Loops.{FieldsSoFar, TreesSoFar, fields-all, fields-more, fields-none, trees-all, trees-more, trees-none}

-- FIELDS

abbrev pub FieldsSeen : NodeProfile → Moment → List NodeField → Moment → List NodeField → ℕ → Type 0
FieldsSeen p a first b items i = (names : ℕ → Text → Option ℕ) → FieldsSoFar p a (seen_fields names first) b (seen_fields names items) i

pub fields-seen-none : (p : NodeProfile) (a : Moment) (first : List NodeField) → FieldsSeen p a first a first 0
fields-seen-none p a first names = fields-none p a (seen_fields names first)

pub fields-seen-more : (p : NodeProfile) {a b e : Moment} (first items : List NodeField) (i : ℕ) (d g : NodeField) → i < length items → get_or items i d ≡ get_or first i d →
    ((names : ℕ → Text → Option ℕ) → WalkedField p b (seen_by names (plain_field (get_or items i d))) e (seen_by names (plain_field g))) → FieldsSeen p a first b items i → FieldsSeen p a first e (set items i g) (i + 1)
fields-seen-more p {a} {b} {e} first items i d g lt same w h names =
    let at : get_or (seen_fields names items) i (seen_field names d) ≡ seen_field names (get_or items i d) = get_or-map (seen_field names) items i d in
    let was : get_or (seen_fields names first) i (seen_field names d) ≡ seen_field names (get_or first i d) = get_or-map (seen_field names) first i d in
    let count : length (seen_fields names items) ≡ length items = length-map items (seen_field names) in
    let more = fields-more p (seen_fields names first) (seen_fields names items) i (seen_field names d) (seen_field names g) (subst (λ n. i < n) (sym count) lt) (at ∙ ap (seen_field names) same ∙ sym was)
    (subst (λ f. WalkedField p b f e (seen_field names g)) (sym at) (w names)) (h names) in
    subst (λ xs. FieldsSoFar p a (seen_fields names first) e xs (i + 1)) (sym (map-set (seen_field names) items i g)) more

pub fields-seen-all : (p : NodeProfile) (a b : Moment) (first items : List NodeField) (i : ℕ) → length items ≤ i → FieldsSeen p a first b items i →
    (names : ℕ → Text → Option ℕ) → WalkedFields p a (seen_in names (plain_fields first)) b (seen_in names (plain_fields items))
fields-seen-all p a b first items i le h names =
    let count : length (seen_fields names items) ≡ length items = length-map items (seen_field names) in
    let all = fields-all p a b (seen_fields names first) (seen_fields names items) i (subst (λ n. n ≤ i) (sym count) le) (h names) in
    subst (λ fs. WalkedFields p a fs b (seen_in names (plain_fields items))) (sym (fields-seen names first)) (subst (λ gs. WalkedFields p a (fields (seen_fields names first)) b gs) (sym (fields-seen names items)) all)

-- LISTS

abbrev pub TreesSeen : NodeProfile → Moment → List Tree → Moment → List Tree → ℕ → Type 0
TreesSeen p a first b items i = (names : ℕ → Text → Option ℕ) → TreesSoFar p a (seen_trees names first) b (seen_trees names items) i

pub trees-seen-none : (p : NodeProfile) (a : Moment) (first : List Tree) → TreesSeen p a first a first 0
trees-seen-none p a first names = trees-none p a (seen_trees names first)

pub trees-seen-more : (p : NodeProfile) {a b e : Moment} (first items : List Tree) (i : ℕ) (d u : Tree) → i < length items → get_or items i d ≡ get_or first i d → Seen (λ t v. Walked p b t e v) (get_or items i d) u → TreesSeen p a first b items i → TreesSeen p a first e (set items i u) (i + 1)
trees-seen-more p {a} {b} {e} first items i d u lt same w h names =
    let at : get_or (seen_trees names items) i (seen names d) ≡ seen names (get_or items i d) = get_or-map (seen names) items i d in
    let was : get_or (seen_trees names first) i (seen names d) ≡ seen names (get_or first i d) = get_or-map (seen names) first i d in
    let count : length (seen_trees names items) ≡ length items = length-map items (seen names) in
    let more = trees-more p (seen_trees names first) (seen_trees names items) i (seen names d) (seen names u) (subst (λ n. i < n) (sym count) lt) (at ∙ ap (seen names) same ∙ sym was)
    (subst (λ t. Walked p b t e (seen names u)) (sym at) (w names)) (h names) in
    subst (λ xs. TreesSoFar p a (seen_trees names first) e xs (i + 1)) (sym (map-set (seen names) items i u)) more

pub trees-seen-all : (p : NodeProfile) (a b : Moment) (first items : List Tree) (i : ℕ) → length items ≤ i → TreesSeen p a first b items i → SeenAmong (λ ts us. WalkedTrees p a ts b us) (trees first) (trees items)
trees-seen-all p a b first items i le h names =
    let count : length (seen_trees names items) ≡ length items = length-map items (seen names) in
    let all = trees-all p a b (seen_trees names first) (seen_trees names items) i (subst (λ n. n ≤ i) (sym count) le) (h names) in
    subst (λ ts. WalkedTrees p a ts b (seen_among names (trees items))) (sym (trees-seen names first)) (subst (λ us. WalkedTrees p a (trees (seen_trees names first)) b us) (sym (trees-seen names items)) all)
