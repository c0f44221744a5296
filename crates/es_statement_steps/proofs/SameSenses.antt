-- Trees that mean the same at every place: ids and marks of made names mean nothing.
use Rattle.std.proofs.Common.{◌≡◌, ℕ, zero, suc, refl, List, [], ◌∷◌, ◌++◌}
use Rattle.std.specs.Prelude.{Bool, false, Some, codes}
use Rattle.es_tree.specs.Tree.{Tree, node, Label, Fields, done, ◌then◌, one, many, Trees, ◌before◌, trees}
use Rattle.es_tree.specs.declared.ast_type.AstType.{AstType}
use Rattle.es_tree.specs.declared.ast_type.AstType.TheVariants.{AssignmentExpression, CallExpression, MemberExpression}
use Rattle.es_runs.specs.Rules.{assign_node, member_node}
use Rattle.es_runs.specs.Runs.{made}
use Rattle.es_statement_runs.specs.Kinds.{from_portions, inside, label_in, portions, sense, senses}
use Rattle.es_statement_runs.specs.Names.{own_names, own_use}
use Rattle.es_statement_runs.specs.Senses.{Place}
use Rattle.es_statement_runs.specs.Senses.Portion.{alone, rows}

abbrev pub SameSense : Tree → Tree → Type 0
SameSense a b = (p : Place) → sense p a ≡ sense p b

-- a node whose fields mean the same, and which has no scope of its own
pub node-same : (k : AstType) (l : Label) (fs gs : Fields) → own_names k fs ≡ own_names k gs → own_use k fs ≡ own_use k gs → label_in k fs ≡ label_in k gs → ((at : ℕ → Place) → portions at fs ≡ portions at gs) →
    SameSense (node k l fs) (node k l gs)
node-same k l fs gs e d c h p = λ i. from_portions p k l.texts l.flags (e i) (d i) (c i) (h (inside p k l.texts (e i) (c i)) i)

pub one-same : (a b : Tree) → SameSense a b → (at : ℕ → Place) → portions at (one a then done) ≡ portions at (one b then done)
one-same a b h at = λ i. alone (h (at zero) i) ∷ []

pub two-same : (a b c d : Tree) → SameSense a b → SameSense c d → (at : ℕ → Place) → portions at (one a then (one c then done)) ≡ portions at (one b then (one d then done))
two-same a b c d h g at = λ i. alone (h (at zero) i) ∷ alone (g (at (suc zero)) i) ∷ []

abbrev pub AllSame : Trees → Trees → Type 0
AllSame ts us = (p : Place) → senses p ts ≡ senses p us

pub before-same : (a b : Tree) (ts us : Trees) → SameSense a b → AllSame ts us → AllSame (a before ts) (b before us)
before-same a b ts us h g p = λ i. h p i ∷ g p i

pub called-same : (a b : Tree) (ts us : Trees) → SameSense a b → AllSame ts us → (at : ℕ → Place) → portions at (one a then (many ts then done)) ≡ portions at (one b then (many us then done))
called-same a b ts us h g at = λ i. alone (h (at zero) i) ∷ rows (g (at (suc zero)) i) ∷ []

pub member-same : (computed : Bool) (o p k q : Tree) → SameSense o p → SameSense k q → SameSense (member_node computed o k) (member_node computed p q)
member-same computed o p k q h g = node-same MemberExpression (made [] (computed ∷ false ∷ [])) (one o then (one k then done)) (one p then (one q then done)) refl refl refl (two-same o p k q h g)

pub assign-same : (a b c d : Tree) → SameSense a b → SameSense c d → SameSense (assign_node a c) (assign_node b d)
assign-same a b c d h g = node-same AssignmentExpression (made (Some (codes "=") ∷ []) []) (one a then (one c then done)) (one b then (one d then done)) refl refl refl (two-same a b c d h g)

pub call-same : (l : Label) (a b : Tree) (ts us : Trees) → SameSense a b → AllSame ts us → SameSense (node CallExpression l (one a then (many ts then done))) (node CallExpression l (one b then (many us then done)))
call-same l a b ts us h g = node-same CallExpression l (one a then (many ts then done)) (one b then (many us then done)) refl refl refl (called-same a b ts us h g)

-- lists of trees
abbrev pub EachSame : List Tree → List Tree → Type 0
EachSame [] [] = Unit {0}
EachSame (t ∷ ts) (u ∷ us) = SameSense t u × EachSame ts us
EachSame _ _ = ⊥

pub each-same : (ts us : List Tree) → EachSame ts us → AllSame (trees ts) (trees us)
each-same [] [] h p = refl
each-same (t ∷ ts) (u ∷ us) h p = before-same t u (trees ts) (trees us) h.0 (each-same ts us h.1) p
each-same [] (u ∷ us) h p = absurd h
each-same (t ∷ ts) [] h p = absurd h

pub each-both : (ts us vs ws : List Tree) → EachSame ts us → EachSame vs ws → EachSame (ts ++ vs) (us ++ ws)
each-both [] [] vs ws h g = g
each-both (t ∷ ts) (u ∷ us) vs ws h g = (h.0, each-both ts us vs ws h.1 g)
each-both [] (u ∷ us) vs ws h g = absurd h
each-both (t ∷ ts) [] vs ws h g = absurd h
