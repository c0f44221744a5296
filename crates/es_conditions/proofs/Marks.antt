-- Tests of the conditions as facts.
use Rattle.std.proofs.Common.{◌≡◌, ◌&&◌, ◌||◌, Bool, true, false, List, [], ◌∷◌, refl, sym, ◌∙◌, true≢false}
use Rattle.std.specs.Prelude.{not}
use Rattle.std.proofs.lemmas.Bool.{or_from}
use Rattle.es_tree.specs.Names.{flag_at}
use Rattle.es_tree.specs.Tree.{Tree}
use Rattle.es_tree.specs.Walks.{any_node}
use Rattle.es_tree.specs.declared.options.EnvOptions.{EnvOptions}
use Rattle.es_runs.specs.Core.{flag, flag_after}
use Rattle.es_runs.specs.OptionalChaining.{takes_value}
use Rattle.es_runs.specs.Rules.{strays}
use Rattle.es_steps.specs.Steps.{Site}
use Rattle.es_conditions.specs.CoreConditions.{are_marked, is_chain_inside, is_no_stray, is_unmarked_chain}

-- `b` asks for `h` not to hold
pub none-where : (b h : Bool) → (b ≡ true → h ≡ false) → not (b && h) ≡ true
none-where true h f = rw (f refl) refl
none-where false h f = refl

pub where-none : (b h : Bool) → not (b && h) ≡ true → b ≡ true → h ≡ false
where-none true true e d = absurd (true≢false (sym e))
where-none true false e d = refl
where-none false h e d = absurd (true≢false (sym d))

-- `b` and `h` ask for `c`
pub asked-where : (b h c : Bool) → (b ≡ true → h ≡ true → c ≡ true) → (not (b && h) || c) ≡ true
asked-where true true c f = f refl refl
asked-where true false c f = refl
asked-where false h c f = refl

pub where-asked : (b h c : Bool) → (not (b && h) || c) ≡ true → b ≡ true → h ≡ true → c ≡ true
where-asked true true c e d g = e
where-asked true false c e d g = absurd (true≢false (sym g))
where-asked false h c e d g = absurd (true≢false (sym d))

pub or-second : (a b : Bool) → (a || b) ≡ true → b ≡ false → a ≡ true
or-second true b e d = refl
or-second false b e d = sym d ∙ e

-- of `a || b`, neither
pub first-of : (a b : Bool) → (a || b) ≡ false → a ≡ false
first-of true b e = absurd (true≢false e)
first-of false b e = refl

pub second-of : (a b : Bool) → (a || b) ≡ false → b ≡ false
second-of true b e = absurd (true≢false e)
second-of false b e = e

-- FLAGS

pub first-flag : (fs : List Bool) → flag_at 0 fs ≡ flag fs
first-flag [] = refl
first-flag (b ∷ fs) = refl

pub second-flag : (fs : List Bool) → flag_at 1 fs ≡ flag_after fs
second-flag [] = refl
second-flag (a ∷ []) = refl
second-flag (a ∷ (b ∷ fs)) = refl

-- MARKS of a tree, where chains are lowered

pub record Marked (o : EnvOptions) (t : Tree) : Type 0 where
  pub tidy : o.es2020.optional_chaining ≡ true → strays false t ≡ false
  pub full : o.es2020.optional_chaining ≡ true → any_node is_unmarked_chain t ≡ false

module _ (o : EnvOptions) where
  pub marked-of : (t : Tree) → are_marked o t ≡ true → Marked o t
  marked-of t e =
      let none = where-none o.es2020.optional_chaining (strays false t || any_node is_unmarked_chain t) e in
      record { tidy = λ d. first-of (strays false t) (any_node is_unmarked_chain t) (none d); full = λ d. second-of (strays false t) (any_node is_unmarked_chain t) (none d) }

  pub marks-of : (t : Tree) → Marked o t → are_marked o t ≡ true
  marks-of t h = none-where o.es2020.optional_chaining (strays false t || any_node is_unmarked_chain t) (λ d. or_from (strays false t) (any_node is_unmarked_chain t) (h.tidy d) (h.full d))

  pub no-stray-of : (n : Site) (t : Tree) → (o.es2020.optional_chaining ≡ true → is_chain_inside t ≡ true → takes_value n.need.level ≡ true) → is_no_stray o n t ≡ true
  no-stray-of n t f = asked-where o.es2020.optional_chaining (is_chain_inside t) (takes_value n.need.level) f

  pub of-no-stray : (n : Site) (t : Tree) → is_no_stray o n t ≡ true → o.es2020.optional_chaining ≡ true → is_chain_inside t ≡ true → takes_value n.need.level ≡ true
  of-no-stray n t e d g = where-asked o.es2020.optional_chaining (is_chain_inside t) (takes_value n.need.level) e d g
