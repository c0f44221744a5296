-- What is kept where the statements of a program are lowered: weights, ids and the place.
use Rattle.std.proofs.Common.{◌≡◌, ◌∙◌, ◌+◌, ◌≤◌, ℕ, refl, sym, ap, subst, arith, length, List, [], ◌∷◌, ◌++◌, append-nil, append_assoc}
use Rattle.es_tree.specs.Tree.{Tree, node, Label, done, ◌then◌, many, statements, Trees, tree_size, trees}
use Rattle.es_tree.specs.declared.ast_type.AstType.TheVariants.{Program}
use Rattle.es_runs.specs.Weights.{weight}
use Rattle.es_resolution.specs.Declarations.{Bound}
use Rattle.es_steps.specs.Nodes.{identifier}
use Rattle.es_visit.specs.Calls.{KeepsAllIds, KeepsIds}
use Rattle.es_visit.specs.Counts.{Measure, total}
use Rattle.es_changes.specs.Changes.{HasRoom, lists_size, lists_weight}
use Rattle.es_changes.specs.Moments.{Moment, below}
use Rattle.es_traverse.specs.Laws.{KeptTree, KeptTrees}
use Rattle.es_traverse.specs.Loads.{load}
use Rattle.es_traverse.proofs.Kept.{kept-none}
use Rattle.es_traverse.proofs.LoadParts.{weight-loaded}
use Rattle.lower_temporaries.specs.SeenTrees.{IsSeenAs, no_bindings}
use Rattle.lower_temporaries.proofs.SeenLaws.{load-seen, size-seen}
use Rattle.lower_namespace_exports.specs.Lowered.{Lowered, LowersOne, PutsLowered, Splits}
use Rattle.lower_namespace_exports.specs.Lowered.Lowered.{kept, none, split}
use Rattle.lower_namespace_exports.specs.Lowered.LowersOne.{splits, stays}

-- A NAME is one node, and weighs no more

pub name-size : (t : Tree) (x : Bound) → IsSeenAs t (identifier x) → tree_size t ≡ 1
name-size t x h = sym (size-seen no_bindings t) ∙ ap tree_size (h no_bindings)

name-weight : (t : Tree) (x : Bound) → IsSeenAs t (identifier x) → weight t ≤ 1
name-weight t x h = let e : load t ≡ 1 = sym (load-seen no_bindings t) ∙ ap load (h no_bindings) in omega (arith, weight-loaded t, e)

-- AN EXPORT

module _ {a b : Moment} {t i e : Tree} (x : Splits a t b i e) where
  sizes : tree_size i + tree_size e ≡ tree_size t + 5
  sizes =
      let local = name-size x.local x.name x.bound in
      let read = name-size x.read x.name x.referred in
      let was = ap tree_size x.is_export in
      let imported = ap tree_size x.import_is in
      let given = ap tree_size x.export_is in
      omega (arith, local, read, was, imported, given)

  weights : weight i + weight e + 7 ≤ weight t
  weights =
      let local = name-weight x.local x.name x.bound in
      let read = name-weight x.read x.name x.referred in
      let was = ap weight x.is_export in
      let imported = ap weight x.import_is in
      let given = ap weight x.export_is in
      omega (arith, local, read, was, imported, given)

  ids : (m : Measure) → total m t ≤ total m i + total m e
  ids m =
      let was = ap (total m) x.is_export in
      let imported = ap (total m) x.import_is in
      let given = ap (total m) x.export_is in
      omega (arith, was, imported, given)

-- THE LIST

pub kept-lowered : {a b : Moment} {ts us : Trees} → Lowered a ts b us → KeptTrees a ts b us
kept-lowered (none {a = a}) = kept-none a 0 0
kept-lowered (kept e r) =
    let k = kept-lowered r in
    record { level = k.level; around = k.around; options = k.options; counted = k.counted; lighter = omega (arith, k.lighter); nodes = omega (arith, k.nodes) }
kept-lowered (split {a = a} {b = b} x r) =
    let k = kept-lowered r in
    let heavy = ap lists_weight x.takes.lists_are in
    let large = ap lists_size x.takes.lists_are in
    record {
      level = record { deep = k.level.deep ∙ ap length x.takes.lists_are; outer = k.level.outer ∙ ap below x.takes.lists_are };
      around = k.around ∙ x.takes.around_is;
      options = k.options ∙ x.takes.options_are;
      counted = omega (arith, k.counted, x.takes.next_is);
      lighter = omega (arith, k.lighter, x.takes.next_is, heavy, weights x);
      nodes = omega (arith, k.nodes, x.takes.next_is, large, sizes x);
    }

pub ids-lowered : {a b : Moment} {ts us : Trees} → Lowered a ts b us → KeepsAllIds ts us
ids-lowered none m = omega arith
ids-lowered (kept e r) m = let rest = ids-lowered r m in omega (arith, rest)
ids-lowered (split x r) m = let rest = ids-lowered r m in let first = ids x m in omega (arith, rest, first)

pub lists-lowered : {a b : Moment} {ts us : Trees} → Lowered a ts b us → b.lists ≡ a.lists
lists-lowered none = refl
lists-lowered (kept e r) = lists-lowered r
lists-lowered (split x r) = lists-lowered r ∙ x.takes.lists_are

-- THE PROGRAM

module _ {a b : Moment} {ts us : Trees} (l : Label) (ds : Trees) (r : Lowered a ts b us) where
  abbrev program : Trees → Tree
  program vs = node Program l (many ds then statements vs then done)

  pub kept-program : KeptTree a (program ts) b (program us)
  kept-program =
      let k = kept-lowered r in
      record { level = k.level; around = k.around; options = k.options; counted = k.counted; lighter = omega (arith, k.lighter); nodes = omega (arith, k.nodes) }

  pub ids-program : KeepsIds (program ts) (program us)
  ids-program = record { root = refl; all = λ m. let more = ids-lowered r m in omega (arith, more) }

-- STATEMENT BY STATEMENT: what has become of those so far, with whatever becomes of the others

abbrev pub LoweredSoFar : Moment → List Tree → Moment → List Tree → List Tree → Type 0
LoweredSoFar a ts b so_far rest = (c : Moment) (us : List Tree) → Lowered b (trees rest) c (trees us) → Lowered a (trees ts) c (trees (so_far ++ us))

pub lowered-first : (a : Moment) (ts : List Tree) → LoweredSoFar a ts a [] ts
lowered-first a ts c us r = r

lowered-by : {b c : Moment} {t : Tree} {vs : List Tree} → LowersOne b t c vs → (d : Moment) (ts us : List Tree) → Lowered c (trees ts) d (trees us) → Lowered b (trees (t ∷ ts)) d (trees (vs ++ us))
lowered-by (stays e) d ts us r = kept e r
lowered-by (splits x) d ts us r = split x r

pub lowered-next : (a b c : Moment) (ts so_far further : List Tree) (t : Tree) (rest : List Tree) → LoweredSoFar a ts b so_far (t ∷ rest) → PutsLowered b t c so_far further → LoweredSoFar a ts c further rest
lowered-next a b c ts so_far further t rest h p d us r =
    let whole : Lowered a (trees ts) d (trees (so_far ++ (p.further ++ us))) = h d (p.further ++ us) (lowered-by p.lowers d rest us r) in
    subst (λ vs. Lowered a (trees ts) d (trees vs)) (sym (append_assoc so_far p.further us) ∙ ap (λ vs. vs ++ us) (sym p.put)) whole

pub lowered-all : (a b : Moment) (ts so_far rest : List Tree) → length rest ≡ 0 → LoweredSoFar a ts b so_far rest → Lowered a (trees ts) b (trees so_far)
lowered-all a b ts so_far (t ∷ rest) e h = absurd (omega (arith, e))
lowered-all a b ts so_far [] e h = subst (λ vs. Lowered a (trees ts) b (trees vs)) (append-nil so_far) (h b [] none)

-- there is room for the rest
room-by : {b c : Moment} {t : Tree} {vs : List Tree} → LowersOne b t c vs → (w : ℕ) → HasRoom b (weight t + w) → HasRoom c w
room-by {t = t} (stays e) w h = omega (arith, h)
room-by (splits x) w h = let heavy = ap lists_weight x.takes.lists_are in omega (arith, h, heavy, x.takes.next_is, weights x)

pub room-next : (b c : Moment) (so_far further : List Tree) (t : Tree) (w : ℕ) → PutsLowered b t c so_far further → HasRoom b (weight t + w) → HasRoom c w
room-next b c so_far further t w p h = room-by p.lowers w h
