-- What a source becomes first: `using` moves out of heads of loops and is lowered, or it stays as it is; there is one such program.
use Rattle.std.proofs.Common.{◌≡◌, ◌∙◌, ◌*◌, ◌≤◌, List, [], ap, arith, refl, subst, sym, true≢false}
use Rattle.std.proofs.lemmas.Bool.{and_parts, not-true}
use Rattle.std.specs.Prelude.{Bool, true, false, ◌&&◌, not}
use Rattle.es_tree.specs.Constructs.{is_using}
use Rattle.es_tree.specs.HasForm.{has_form}
use Rattle.es_tree.specs.StaticRules.{breaks}
use Rattle.es_tree.specs.Tree.{Tree, tree_size}
use Rattle.es_tree.specs.Walks.{any_node}
use Rattle.es_tree.specs.Words.{Text}
use Rattle.es_tree.specs.declared.options.EnvOptions.{EnvOptions}
use Rattle.es_tree.specs.declared.table.Sort.TheVariants.{Program as s-Program}
use Rattle.es_semantic.specs.SymbolsOf.{symbols_of}
use Rattle.es_steps.specs.CoreBridge.{first_whole}
use Rattle.es_rest_shapes.specs.HelperNames.{binds_helpers}
use Rattle.es_pattern_moves.specs.Weights.{weighed}
use Rattle.es_using_rows.proofs.UsedAgree.{law_one_used_proof}
use Rattle.es_using_heads.proofs.HeadAgree.{law_one_headed_proof}
use Rattle.es_using_heads.proofs.HeadWeights.{law_weighed_proof}
use Rattle.es_export_splits.specs.Splits.{plainly, split}
use Rattle.es_export_splits.proofs.SplitUsedWeights.{law_split_weighs_used_proof}
use Rattle.es_lowered.specs.Used.{IsUsed}
use Rattle.es_lowered.proofs.Used.{law_headed_proof, law_unused_proof, law_used_proof}
use Rattle.lower_driver.specs.Splits.{Splits}
use Rattle.lower_driver.specs.Uses.{Heads, Uses, lowers_using, using_there}
use Rattle.lower_driver.proofs.HeadNames.{headed-unbound}
use Rattle.lower_driver.proofs.Splits.{split-weight}

-- ONE PROGRAM

pub one-headed : (on : Bool) (p q r : Tree) (names others : List Text) → Heads on p q names → Heads on p r others → q ≡ r
one-headed true p q r names others a b = (law_one_headed_proof (first_whole p).in_use p q r names others (a.goes refl) (b.goes refl)).0
one-headed false p q r names others a b = (a.stays refl).0 ∙ sym (b.stays refl).0

pub one-used : (on : Bool) (p q r : Tree) (names others : List Text) → Uses on p q names → Uses on p r others → q ≡ r
one-used true p q r names others a b = (law_one_used_proof (first_whole p).in_use p q r names others (a.goes refl) (b.goes refl)).0
one-used false p q r names others a b = (a.stays refl).0 ∙ sym (b.stays refl).0

-- WHERE NONE IS LOWERED

pub heads-itself : (on : Bool) (p : Tree) → on ≡ false → Heads on p p []
heads-itself on p off = record { goes = λ e. absurd (true≢false (sym e ∙ off)); stays = λ e. (refl, refl) }

pub uses-itself : (on : Bool) (p : Tree) → on ≡ false → Uses on p p []
uses-itself on p off = record { goes = λ e. absurd (true≢false (sym e ∙ off)); stays = λ e. (refl, refl) }

pub unasked-off : (o : EnvOptions) (p : Tree) → using_there o p ≡ false → lowers_using o p ≡ false
unasked-off o p none = ap (λ b. b && not (binds_helpers (symbols_of p))) none

-- WHAT IT IS

module _ (o : EnvOptions) (p : Tree) (form : has_form s-Program p ≡ true) (right : breaks p ≡ []) where
  abbrev on : Bool
  on = lowers_using o p

  -- what the test says
  asked : on ≡ true → o.es2026.explicit_resource_management ≡ true
  asked e = (and_parts o.es2026.explicit_resource_management (any_node is_using p) (and_parts (using_there o p) (not (binds_helpers (symbols_of p))) e).0).0

  free : on ≡ true → binds_helpers (symbols_of p) ≡ false
  free e = not-true (binds_helpers (symbols_of p)) (and_parts (using_there o p) (not (binds_helpers (symbols_of p))) e).1

  -- what stays is such a program
  stays-so : (t q : Tree) (names : List Text) → has_form s-Program t ≡ true → breaks t ≡ [] → (q ≡ t) × (names ≡ []) → IsUsed on t q names
  stays-so t q names formed kept same = subst (λ (u : Tree). IsUsed on t u names) (sym same.0) (subst (λ (xs : List Text). IsUsed on t t xs) (sym same.1) (law_unused_proof on t formed kept))

  goes-so : (t q : Tree) (names : List Text) → on ≡ true → IsUsed true t q names → IsUsed on t q names
  goes-so t q names e h = subst (λ (b : Bool). IsUsed b t q names) (sym e) h

  pub is-headed : (q : Tree) (names : List Text) → Heads on p q names → IsUsed on p q names
  is-headed q names h = at on refl
    where
      at : (b : Bool) → on ≡ b → IsUsed on p q names
      at true e = goes-so p q names e (law_headed_proof o p q names form right (asked e) (h.goes e))
      at false e = stays-so p q names form right (h.stays e)

  pub is-used : (t q : Tree) (heads names : List Text) → Heads on p t heads → Uses on t q names → IsUsed on t q names
  is-used t q heads names h u = at on refl
    where
      there : IsUsed on p t heads
      there = is-headed t heads h

      at : (b : Bool) → on ≡ b → IsUsed on t q names
      at true e = goes-so t q names e (law_used_proof o t q names there.form there.kept (asked e) (headed-unbound p t heads (h.goes e) (free e)) (u.goes e))
      at false e = stays-so t q names there.form there.kept (u.stays e)

-- told by a flag that is the test

pub heads-as : {a b : Bool} {p t : Tree} {names : List Text} → a ≡ b → Heads a p t names → Heads b p t names
heads-as {p = p} {t = t} {names = names} e h = subst (λ (c : Bool). Heads c p t names) e h

pub uses-as : {a b : Bool} {t q : Tree} {names : List Text} → a ≡ b → Uses a t q names → Uses b t q names
uses-as {t = t} {q = q} {names = names} e u = subst (λ (c : Bool). Uses c t q names) e u

-- SIZE: what it weighs, once its exports were split, too

used-weight : (on : Bool) (p t q : Tree) (heads names : List Text) → has_form s-Program p ≡ true → weighed p ≤ 20 * tree_size p → Heads on p t heads → Uses on t q names → weighed q ≤ 20 * tree_size p
used-weight true p t q heads names form light h u = rw ((u.goes refl).tree, (h.goes refl).tree) (law_weighed_proof p heads names form)
used-weight false p t q heads names form light h u = rw ((u.stays refl).0, (h.stays refl).0) light

split-and-used : (on : Bool) (s p t q : Tree) (heads names : List Text) → has_form s-Program s ≡ true → p ≡ split plainly s → weighed p ≤ 8 * tree_size s → Heads on p t heads → Uses on t q names → weighed q ≤ 20 * tree_size s
split-and-used true s p t q heads names form e light h u = rw ((u.goes refl).tree, (h.goes refl).tree, e) (law_split_weighs_used_proof s heads names form)
split-and-used false s p t q heads names form e light h u = rw ((u.stays refl).0, (h.stays refl).0) (omega (arith, light))

pub all-weight : (first on : Bool) (s p t q : Tree) (heads names : List Text) → has_form s-Program s ≡ true → weighed s ≤ 7 * tree_size s → Splits first s p → Heads on p t heads → Uses on t q names → weighed q ≤ 20 * tree_size s
all-weight true on s p t q heads names form light x h u = split-and-used on s p t q heads names form (x.goes refl) (split-weight true s p light x) h u
all-weight false on s p t q heads names form light x h u =
    let same = sym (x.stays refl) in
    let least : weighed s ≤ 20 * tree_size s = omega (arith, light) in
    let formed : has_form s-Program p ≡ true = ap (has_form s-Program) (x.stays refl) ∙ form in
    let there : weighed p ≤ 20 * tree_size p = subst (λ (z : Tree). weighed z ≤ 20 * tree_size z) same least in
    subst (λ (z : Tree). weighed q ≤ 20 * tree_size z) (x.stays refl) (used-weight on p t q heads names formed there h u)
