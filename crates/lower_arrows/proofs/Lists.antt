-- The list of a target, with the declaration of its name.
use Rattle.std.proofs.Common.{◌≡◌, ◌∙◌, ◌+◌, ℕ, refl, sym, ap, subst, arith, List}
use Rattle.std.specs.Prelude.{false, Option, Some, None}
use Rattle.es_tree.specs.Constructs.{is_arrow}
use Rattle.es_tree.specs.Tree.{Tree, Trees, empty, ◌before◌, tree_size, trees, trees_size}
use Rattle.es_tree.specs.Walks.{any_in_trees}
use Rattle.es_resolution.specs.Declarations.{Bound}
use Rattle.es_resolution.specs.Seen.{seen, seen_among}
use Rattle.es_runs.specs.Weights.{trees_weight, weight}
use Rattle.es_changes.specs.Moments.{Moment}
use Rattle.es_steps.specs.Nodes.{this_statement}
use Rattle.es_steps.specs.Open.{after_imports, no_additions, nothing_pending, whole_list}
use Rattle.es_steps.proofs.Opened.{written-none}
use Rattle.es_traverse.specs.Laws.{Seen, SeenAmong}
use Rattle.lower_temporaries.specs.SeenTrees.{no_bindings}
use Rattle.lower_temporaries.specs.Takings.{with_ids}
use Rattle.lower_writing.specs.Lists.{imports_before, with_statement}
use Rattle.lower_writing.proofs.SeenWeights.{trees-size-seen, trees-weight-seen}
use Rattle.lower_writing.proofs.WrittenLists.{after-none, after-seen, after-sum, put-after-imports}
use Rattle.lower_arrows.specs.Names.{IsName, bound_of, ids_to_declare, name_in, this_declaration}
use Rattle.lower_arrows.specs.Walks.{Paid, WalkedTarget, WalkedTrees}
use Rattle.lower_arrows.proofs.Fields.{target-walked}

abbrev pub Declared : Option Tree → Trees → Trees → Type 0
Declared x = SeenAmong (λ ts us. us ≡ whole_list nothing_pending (name_in x) no_additions ts)

pub none-declared : (ts : Trees) → Declared None ts ts
none-declared ts names = sym (written-none (seen_among names ts))

-- the declaration before the first statement that is no import
pub name-declared : (name declaration : Tree) (ts us : List Tree) (k : ℕ) → IsName (Some name) → Seen (λ p u. u ≡ this_declaration p) name declaration → k ≡ imports_before ts → us ≡ with_statement k (Some declaration) ts → Declared (Some name) (trees ts) (trees us)
name-declared name declaration ts us k named made at put names =
    let first : seen names declaration ≡ this_statement (bound_of name) = made names ∙ ap this_declaration (named names) in
    let all : trees us ≡ after_imports (declaration before empty) (trees ts) = ap trees put ∙ ap (λ j. trees (with_statement j (Some declaration) ts)) at ∙ put-after-imports (Some declaration) None ts in
    ap (seen_among names) all ∙ after-seen names (declaration before empty) (trees ts) ∙ ap (λ d. after_imports (d before empty) (seen_among names (trees ts))) first

-- WHAT IT COSTS

-- the nodes of the declaration
abbrev declared_nodes : Option Tree → ℕ
declared_nodes None = 0
declared_nodes (Some t) = 4

whole-weight : (y : Option Tree) (ts : Trees) → trees_weight (whole_list nothing_pending (name_in y) no_additions ts) ≡ trees_weight ts + declared_nodes y
whole-weight None ts = let none = ap trees_weight (written-none ts) in omega (arith, none)
whole-weight (Some t) ts = let some = after-sum trees_weight weight refl (λ u us. refl) (this_statement (bound_of t) before empty) ts in omega (arith, some)

whole-size : (y : Option Tree) (ts : Trees) → trees_size (whole_list nothing_pending (name_in y) no_additions ts) ≡ trees_size ts + declared_nodes y
whole-size None ts = let none = ap trees_size (written-none ts) in omega (arith, none)
whole-size (Some t) ts = let some = after-sum trees_size tree_size refl (λ u us. refl) (this_statement (bound_of t) before empty) ts in omega (arith, some)

declared-weight : (y : Option Tree) (ts us : Trees) → Declared y ts us → trees_weight us ≡ trees_weight ts + declared_nodes y
declared-weight y ts us h =
    let all = sym (trees-weight-seen no_bindings us) ∙ ap trees_weight (h no_bindings) ∙ whole-weight y (seen_among no_bindings ts) in
    omega (arith, all, trees-weight-seen no_bindings ts)

declared-size : (y : Option Tree) (ts us : Trees) → Declared y ts us → trees_size us ≡ trees_size ts + declared_nodes y
declared-size y ts us h =
    let all = sym (trees-size-seen no_bindings us) ∙ ap trees_size (h no_bindings) ∙ whole-size y (seen_among no_bindings ts) in
    omega (arith, all, trees-size-seen no_bindings ts)

pub list-paid : (a b c : Moment) (y : Option Tree) (w s : ℕ) (ts us : Trees) → Paid false a None w s b y (trees_weight ts) (trees_size ts) → Declared y ts us → c ≡ with_ids (ids_to_declare y) b → Paid false a None w s c None (trees_weight us) (trees_size us)
list-paid a b c y w s ts us h d e = subst (λ (m : Moment). Paid false a None w s m None (trees_weight us) (trees_size us)) (sym e) (by y h d)
  where
    by : (y : Option Tree) → Paid false a None w s b y (trees_weight ts) (trees_size ts) → Declared y ts us → Paid false a None w s (with_ids (ids_to_declare y) b) None (trees_weight us) (trees_size us)
    by None h d = record { lists = h.lists; around = h.around; options = h.options; counted = omega (arith, h.counted); lighter = omega (arith, h.lighter, declared-weight None ts us d); nodes = omega (arith, h.nodes, declared-size None ts us d); stays = λ z. z }
    by (Some t) h d = record { lists = h.lists; around = h.around; options = h.options; counted = omega (arith, h.counted); lighter = omega (arith, h.lighter, declared-weight (Some t) ts us d); nodes = omega (arith, h.nodes, declared-size (Some t) ts us d); stays = λ z. z }

-- WHAT IS LEFT

walked-later : (n : ℕ) (a b : Moment) (y : Option Bound) (ts us : Trees) → WalkedTrees false a None ts b y us → WalkedTrees false a None ts (with_ids n b) y us
walked-later n a b y ts us w = record { steps = w.steps; text = w.text; arrows = w.arrows; this = w.this }

no-arrow-written : (y : Option Tree) (us : Trees) → any_in_trees is_arrow us ≡ false → any_in_trees is_arrow (whole_list nothing_pending (name_in y) no_additions us) ≡ false
no-arrow-written None us h = ap (any_in_trees is_arrow) (written-none us) ∙ h
no-arrow-written (Some t) us h = after-none is_arrow (this_statement (bound_of t) before empty) us refl h

pub list-left : (a b c : Moment) (y : Option Tree) (ts us vs : Trees) → SeenAmong (λ ts us. WalkedTrees false a None ts b (name_in y) us) ts us → Declared y us vs → c ≡ with_ids (ids_to_declare y) b → SeenAmong (λ ts vs. WalkedTarget a ts c vs) ts vs
list-left a b c y ts us vs w d e names =
    let inner = walked-later (ids_to_declare y) a b (name_in y) (seen_among names ts) (seen_among names us) (w names) in
    let none = ap (any_in_trees is_arrow) (d names) ∙ no-arrow-written y (seen_among names us) inner.arrows in
    subst (λ (m : Moment). WalkedTarget a (seen_among names ts) m (seen_among names vs)) (sym e)
    (target-walked a (seen_among names ts) (with_ids (ids_to_declare y) b) (name_in y) (seen_among names us) (seen_among names vs) (d names) none inner)
