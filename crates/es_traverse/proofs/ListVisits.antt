-- The nodes of a list, visited one after the other: what holds wherever the list as it was fits.
use Rattle.std.proofs.Common.{◌≡◌, ◌∙◌, ◌≤◌, ◌<◌, ◌+◌, refl, sym, ap, subst, arith, ℕ, zero, suc, length, List, [], ◌∷◌, get_or, set, false, Option}
use Rattle.std.specs.Prelude.{map}
use Rattle.std.proofs.lemmas.List.{length-map, map-set}
use Rattle.std.proofs.Math.ListN.{get_or-map}
use Rattle.es_tree.specs.Tree.{Tree, ◌before◌, trees}
use Rattle.es_tree.specs.Walks.{any_in_trees, any_node}
use Rattle.es_tree.specs.Words.{Text}
use Rattle.es_tree.specs.declared.options.EnvOptions.{EnvOptions}
use Rattle.es_resolution.specs.Seen.{seen, seen_among}
use Rattle.es_steps.specs.Steps.{Site}
use Rattle.es_visit.specs.declared.hook.Hook.{Hook}
use Rattle.es_changes.specs.Changes.{Each}
use Rattle.es_changes.specs.Conditions.{holds_before}
use Rattle.es_changes.specs.Fits.{FitAll}
use Rattle.es_changes.specs.Laws.{LawsOfTrees, SamePlace, TreesSoFar}
use Rattle.es_changes.specs.Moments.{Moment}
use Rattle.es_changes.proofs.TreeLaws.{trees-laws}
use Rattle.es_traverse.specs.Laws.{IsLawful, Profile, SeenAmong, removed_by}
use Rattle.es_traverse.specs.Loads.{allowance}
use Rattle.es_traverse.specs.Sites.{Tells}
use Rattle.es_traverse.specs.Visits.{Visited, VisitedAt, VisitedTrees}
use Rattle.es_traverse.specs.declared.site.Site.{Site as CodeSite}
use Rattle.es_traverse.specs.declared.site.Site.TheVariants.{ArrowBody, Slot}
use Rattle.es_traverse.proofs.FieldVisits.{each-set, neither}

-- WHAT IS SEEN of a list

abbrev pub seen_trees : (ℕ → Text → Option ℕ) → List Tree → List Tree
seen_trees names xs = map (seen names) xs

pub trees-seen : (names : ℕ → Text → Option ℕ) (xs : List Tree) → seen_among names (trees xs) ≡ trees (seen_trees names xs)
trees-seen names [] = refl
trees-seen names (x ∷ xs) = ap (λ ts. seen names x before ts) (trees-seen names xs)

-- ONE OF THE NODES

pub each-tree-at : (P : Site → Tree → Type 0) (n : Site) (xs : List Tree) (i : ℕ) (d : Tree) → i < length xs → Each P n (trees xs) → P n (get_or xs i d)
each-tree-at P n [] i d l h = absurd (omega (arith, l))
each-tree-at P n (x ∷ xs) zero d l h = h.0
each-tree-at P n (x ∷ xs) (suc i) d l h = each-tree-at P n xs i d (omega (arith, l)) h.1

-- at a place that may take nothing, which is neither the body of an none nor may be a slot
pub visited-here : (c : CodeSite) (p : Profile) {a b : Moment} (t u : Tree) → allowance c ≡ 0 → VisitedAt c p a t b u → Visited p c a t b u
visited-here ArrowBody p t u e v = absurd (omega (arith, e))
visited-here c p t u e v = v

no-slot-place : (c : CodeSite) → allowance c ≡ 0 → c ≡ Slot → ⊥
no-slot-place c e is = omega (arith, e, ap allowance is)

-- the nodes before this one are visited
pub record TreesVisited (p : Profile) (n : Site) (a : Moment) (first : List Tree) (b : Moment) (items : List Tree) (i : ℕ) : Type 0 where
  pub so_far : TreesSoFar p.rule n a first b items
  pub free : (j : ℕ) (d : Tree) → j < i → (h : Option Hook) → any_node (removed_by p h) (get_or items j d) ≡ false

module _ (p : Profile) (law : IsLawful p) (n : Site) where
  laws : LawsOfTrees p.rule
  laws = trees-laws p.rule law.rule

  pub trees-visited-none : (a : Moment) (first : List Tree) → FitAll a n (trees first) → TreesVisited p n a first a first 0
  trees-visited-none a first h = record { so_far = laws.none n a first h; free = λ j d m h. absurd (omega (arith, m)) }

  pub trees-visited-more : (c : CodeSite) {a b m : Moment} (first items : List Tree) (i : ℕ) (d y : Tree) → allowance c ≡ 0 → i < length items → get_or items i d ≡ get_or first i d → SamePlace b m → Visited p c b (get_or items i d) m y → Each (holds_before p.conditions) n (trees first) →
      TreesVisited p n a first b items i → TreesVisited p n a first m (set items i y) (i + 1)
  trees-visited-more c {a = a} {b = b} {m = m} first items i d y none lt same place v known h =
      let fit = laws.inside n a b first items i d h.so_far lt in
      let holds : holds_before p.conditions n (get_or items i d) = subst (λ t. holds_before p.conditions n t) (sym same) (each-tree-at (holds_before p.conditions) n first i d (omega (arith, lt, h.so_far.count)) known) in
      let tells : Tells c n = record { slot = λ e. absurd (h.so_far.fits.no_slot e); leads = λ e. absurd (no-slot-place c none e) } in
      record {
        so_far = laws.more n a b m first items i d y h.so_far lt place (v.stepped n tells fit holds);
        free = each-set (λ t. (g : Option Hook) → any_node (removed_by p g) t ≡ false) items i y lt h.free (v.free n tells fit holds);
      }

-- ALL NODES

free-trees : (p : Profile) (xs : List Tree) → ((j : ℕ) (d : Tree) → j < length xs → (h : Option Hook) → any_node (removed_by p h) (get_or xs j d) ≡ false) → (h : Option Hook) → any_in_trees (removed_by p h) (trees xs) ≡ false
free-trees p [] f h = refl
free-trees p (x ∷ xs) f h = neither (any_node (removed_by p h) x) (any_in_trees (removed_by p h) (trees xs)) (f 0 x (omega arith) h) (free-trees p xs (λ j d l. f (suc j) d (omega (arith, l))) h)

-- whatever scopes bind
pub record ListSeen (p : Profile) (a : Moment) (first : List Tree) (b : Moment) (items : List Tree) (i : ℕ) : Type 0 where
  pub each : (names : ℕ → Text → Option ℕ) (n : Site) → FitAll a n (trees (seen_trees names first)) → Each (holds_before p.conditions) n (trees (seen_trees names first)) → TreesVisited p n a (seen_trees names first) b (seen_trees names items) i

pub list-seen-none : (p : Profile) → IsLawful p → (a : Moment) (first : List Tree) → ListSeen p a first a first 0
list-seen-none p law a first = record { each = λ names n fit known. trees-visited-none p law n a (seen_trees names first) fit }

pub list-seen-more : (P : EnvOptions → Profile) (c : CodeSite) {a b m : Moment} (first items : List Tree) (i : ℕ) (d y : Tree) → IsLawful (P a.options) → allowance c ≡ 0 → b.options ≡ a.options → SamePlace b m → i < length items → get_or items i d ≡ get_or first i d →
    ((names : ℕ → Text → Option ℕ) → VisitedAt c (P b.options) b (seen names (get_or items i d)) m (seen names y)) → ListSeen (P a.options) a first b items i → ListSeen (P a.options) a first m (set items i y) (i + 1)
list-seen-more P c {a = a} {b = b} {m = m} first items i d y law none options place lt same v h = record {
  each = λ names n fit known.
      let f : Tree → Tree = seen names in
      let at_place : get_or (map f items) i (f d) ≡ f (get_or items i d) = get_or-map f items i d in
      let here : Visited (P a.options) c b (f (get_or items i d)) m (f y) = subst (λ o. Visited (P o) c b (f (get_or items i d)) m (f y)) options (visited-here c (P b.options) (f (get_or items i d)) (f y) none (v names)) in
      let there : Visited (P a.options) c b (get_or (map f items) i (f d)) m (f y) = subst (λ z. Visited (P a.options) c b z m (f y)) (sym at_place) here in
      let still : get_or (map f items) i (f d) ≡ get_or (map f first) i (f d) = at_place ∙ ap f same ∙ sym (get_or-map f first i d) in
      let more = trees-visited-more (P a.options) law n c (map f first) (map f items) i (f d) (f y) none (omega (arith, lt, length-map items f)) still place there known (h.each names n fit known) in
      subst (λ zs. TreesVisited (P a.options) n a (map f first) m zs (i + 1)) (sym (map-set f items i y)) more;
}

-- all of them
pub list-seen-all : (p : Profile) {a b : Moment} (first items : List Tree) (i : ℕ) → length items ≤ i → ListSeen p a first b items i → SeenAmong (λ ps qs. VisitedTrees p a ps b qs) (trees first) (trees items)
list-seen-all p {a = a} {b = b} first items i le h names =
    let done : VisitedTrees p a (trees (seen_trees names first)) b (trees (seen_trees names items)) = record {
      stepped = λ n fit known. (h.each names n fit known).so_far.steps;
      free = λ n fit known. free-trees p (seen_trees names items) (λ j d lt. (h.each names n fit known).free j d (omega (arith, lt, le, length-map items (seen names))));
    } in
    subst (λ us. VisitedTrees p a (seen_among names (trees first)) b us) (sym (trees-seen names items)) (subst (λ ts. VisitedTrees p a ts b (trees (seen_trees names items))) (sym (trees-seen names first)) done)
