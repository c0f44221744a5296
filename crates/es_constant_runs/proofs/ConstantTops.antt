-- The statement that declares constants for lists of excluded keys asks nothing and sets nothing: each of its names stands for its keys.
use Rattle.std.proofs.Common.{◌≡◌, ◌∙◌, refl, sym, ap, subst, List, [], ◌∷◌}
use Rattle.std.specs.Prelude.{Bool, false, codes, map}
use Rattle.es_tree.specs.Tree.{Tree, trees}
use Rattle.es_tree.specs.Words.{Text}
use Rattle.es_resolution.specs.Declarations.{Bound}
use Rattle.es_runs.specs.Alike.{Alike, Equal}
use Rattle.es_runs.specs.Core.{Binding, World, declared, declarator, gives_value, in_order, name, value}
use Rattle.es_runs.specs.Core.Binding.{silent}
use Rattle.es_runs.specs.Core.Silent.{keys_name}
use Rattle.es_runs.specs.Machine.{◌>>=◌, return}
use Rattle.es_runs.specs.Machine.Value.{undefined}
use Rattle.es_steps.specs.Nodes.{declarator_with, identifier}
use Rattle.es_statement_runs.specs.Helpers.Supply.{by_global}
use Rattle.es_statement_runs.specs.Kinds.{sense, senses}
use Rattle.es_statement_runs.specs.Laws.{any_cells}
use Rattle.es_statement_runs.specs.Places.{placed_at}
use Rattle.es_statement_runs.specs.Senses.{Place, Sense, cores, ends, plain_sense, said_in}
use Rattle.es_statement_runs.specs.Senses.More.{nothing_more}
use Rattle.es_statement_runs.specs.StatementParts.{begun, declarator_by, first_asked, first_more}
use Rattle.es_top_constants.specs.TopConstants.{constants_of, declarator_of}
use Rattle.es_top_constants.proofs.Constants.{the_constants}
use Rattle.es_import_runs.proofs.Tops.{IsSilent}
use Rattle.es_constant_runs.proofs.SharedTrees.{AllPaired, listed_in}

module _ (v : World) where
  -- these names stand for these lists
  abbrev pub IsKeptSo : Bound → Tree → Type 0
  IsKeptSo b t = v.scope b.name ≡ silent (keys_name (listed_in t))

  abbrev here : Place
  here = placed_at by_global v [] []

  abbrev there : Place
  there = placed_at by_global v [] (codes "const")

  declarator_said : (b : Bound) (t : Tree) → IsKeptSo b t → sense there (declarator_with (identifier b) t) ≡ ends (return undefined)
  declarator_said b t bound = ap (λ (c : Binding). declarator_by there (said_in by_global c) (sense here (identifier b)) (sense here t) (declarator v (name b.name) (sense here t).core)) bound

  -- nothing for each
  abbrev nothings : List Bound → List Tree → List Sense
  nothings (b ∷ bs) (t ∷ ts) = ends (return undefined) ∷ nothings bs ts
  nothings bs ts = []

  declarators_said : (bs : List Bound) (ls : List Tree) → AllPaired IsKeptSo bs ls → senses there (trees (map declarator_of (constants_of bs ls))) ≡ nothings bs ls
  declarators_said [] [] h = refl
  declarators_said (b ∷ bs) (t ∷ ts) h = λ i. declarator_said b t h.0 i ∷ declarators_said bs ts h.1 i
  declarators_said [] (t ∷ ts) h = absurd h
  declarators_said (b ∷ bs) [] h = absurd h

  nothing_set : (bs : List Bound) (ls : List Tree) → declared false (cores (nothings bs ls)) ≡ return undefined
  nothing_set (b ∷ bs) (t ∷ ts) = nothing_set bs ts
  nothing_set [] ts = refl
  nothing_set (b ∷ bs) [] = refl

  nothing_said : (bs : List Bound) (ls : List Tree) → first_more (nothings bs ls) ≡ nothing_more
  nothing_said (b ∷ bs) (t ∷ ts) = refl
  nothing_said [] ts = refl
  nothing_said (b ∷ bs) [] = refl

  statement_said : (bs : List Bound) (ls : List Tree) → AllPaired IsKeptSo bs ls → sense here (the_constants (constants_of bs ls)) ≡ plain_sense (gives_value (return undefined))
  statement_said bs ls h =
      ap (λ (es : List Sense). record { core = gives_value (declared false (cores es)); more = first_more es }) (declarators_said bs ls h) ∙
      (λ i. record { core = gives_value (nothing_set bs ls i); more = nothing_said bs ls i })

  pub statement_silent : (hidden : Text → Bool) (bs : List Bound) (ls : List Tree) → AllPaired IsKeptSo bs ls → IsSilent by_global hidden v (the_constants (constants_of bs ls))
  statement_silent hidden bs ls h = record {
    begins = λ us m k g. subst (λ (s : Sense). Alike (any_cells hidden) Equal m (first_asked s.more (begun (senses here us) k))) (sym (statement_said bs ls h)) g;
    goes = λ us m g. subst (λ (s : Sense). Alike (any_cells hidden) Equal m (value v s.core >>= λ _. in_order v (cores (senses here us)))) (sym (statement_said bs ls h)) (λ s t a. g s t a);
  }
