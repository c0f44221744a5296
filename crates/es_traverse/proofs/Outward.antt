-- Hooks after nodes: what they count on is kept by steps, and where nothing is removed there no node is such a construct.
use Rattle.std.proofs.Common.{◌≡◌, refl, sym, subst, Bool, true, false}
use Rattle.es_tree.specs.Tree.{Tree, node, Label, Fields, done, ◌then◌, Field, missing, one, many, statements, Trees, empty, ◌before◌}
use Rattle.es_tree.specs.Walks.{any_node, any_in_field, any_in_fields, any_in_trees}
use Rattle.es_tree.specs.declared.ast_type.AstType.{AstType}
use Rattle.es_steps.specs.Open.{Open, finished, opened}
use Rattle.es_steps.specs.Steps.{Ledger, Site, Step, Steps}
use Rattle.es_steps.specs.Steps.Steps.{stays, goes}
use Rattle.es_steps.proofs.Opened.{finished-opened}
use Rattle.es_traverse.specs.Laws.{IsLawful, Profile}
use Rattle.es_traverse.specs.Together.{neither}

-- WHAT THEY COUNT ON

module _ (p : Profile) (law : IsLawful p) (n : Site) where
  carried-row : {s s' : Ledger} {x y : Open} → Steps (Step p.rule n) s x s' y → p.counts_after n (finished x) ≡ true → p.counts_after n (finished y) ≡ true
  carried-row stays h = h
  carried-row (goes r rs) h = carried-row rs (law.outward.carried n _ _ _ _ r h)

  pub carried-along : (t u : Tree) {s s' : Ledger} → Steps (Step p.rule n) s (opened t) s' (opened u) → p.counts_after n t ≡ true → p.counts_after n u ≡ true
  carried-along t u row h =
      subst (λ v. p.counts_after n v ≡ true) (finished-opened u) (carried-row row (subst (λ v. p.counts_after n v ≡ true) (sym (finished-opened t)) h))

-- A TEST THAT NO NODE PASSES

module _ (test : AstType → Label → Fields → Bool) (none : (k : AstType) (l : Label) (fs : Fields) → test k l fs ≡ false) where
  mutual
    pub none-anywhere : (t : Tree) → any_node test t ≡ false
    none-anywhere (node k l fs) = neither (test k l fs) (any_in_fields test fs) (none k l fs) (none-in-fields fs)

    none-in-fields : (fs : Fields) → any_in_fields test fs ≡ false
    none-in-fields done = refl
    none-in-fields (f then fs) = neither (any_in_field test f) (any_in_fields test fs) (none-in-field f) (none-in-fields fs)

    none-in-field : (f : Field) → any_in_field test f ≡ false
    none-in-field missing = refl
    none-in-field (one t) = none-anywhere t
    none-in-field (many ts) = none-in-trees ts
    none-in-field (statements ts) = none-in-trees ts

    none-in-trees : (ts : Trees) → any_in_trees test ts ≡ false
    none-in-trees empty = refl
    none-in-trees (t before ts) = neither (any_node test t) (any_in_trees test ts) (none-anywhere t) (none-in-trees ts)
