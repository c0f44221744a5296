-- What is tested of nodes and holds of calls of the helper and of object literals holds of what object spread makes of the nodes that it takes apart.
use Rattle.std.proofs.Common.{◌≡◌, refl, ◌∙◌, List, [], ◌∷◌, ◌++◌}
use Rattle.std.proofs.lemmas.Bool.{and_parts, and_from}
use Rattle.std.specs.Prelude.{Bool, true, false, ◌&&◌, Option, Some, None, codes}
use Rattle.es_tree.specs.Scopes.{own_text}
use Rattle.es_tree.specs.Tree.{Tree, node, Label, Fields, done, ◌then◌, one, many, Trees, trees, kind_of}
use Rattle.es_tree.specs.Walks.{all_nodes, all_in_trees}
use Rattle.es_tree.specs.declared.ast_type.AstType.{AstType}
use Rattle.es_tree.specs.declared.ast_type.AstType.TheVariants.{CallExpression, ObjectExpression, SpreadElement}
use Rattle.es_resolution.specs.Declarations.{Bound}
use Rattle.es_steps.specs.Nodes.{made, object_node, placed}
use Rattle.es_steps.specs.ObjectRest.{helper_node}
use Rattle.es_steps.specs.ObjectSpread.{Copies, SpreadRule, copied, last_copied}
use Rattle.es_steps.specs.ObjectSpread.Copies.{copies, keeps, no_more}
use Rattle.es_steps.specs.ObjectSpread.SpreadRule.{spreads}
use Rattle.es_steps.specs.Steps.{Site, Whole}

abbrev helper : Tree
helper = helper_node (codes "objectSpread2")

abbrev pub is_copy : AstType → Bool
is_copy CallExpression = true
is_copy ObjectExpression = true
is_copy _ = false

module _ (T : AstType → Label → Fields → Bool) (helper_so : all_nodes T helper ≡ true) (calls : (given : Trees) → T CallExpression (made [] (false ∷ [])) (one helper then many given then done) ≡ true)
    (objects : (ps : Trees) → T ObjectExpression (made [] []) (many ps then done) ≡ true) where
  abbrev So : Tree → Type 0
  So t = all_nodes T t ≡ true

  call-so : (given : List Tree) → all_in_trees T (trees given) ≡ true → So (node CallExpression (made [] (false ∷ [])) (one helper then many (trees given) then done))
  call-so given h = and_from (T CallExpression (made [] (false ∷ [])) (one helper then many (trees given) then done)) (all_nodes T helper && (all_in_trees T (trees given) && true)) (calls (trees given)) (and_from (all_nodes T helper) (all_in_trees T (trees given) && true) helper_so (and_from (all_in_trees T (trees given)) true h refl))

  object-so : (ps : List Tree) → all_in_trees T (trees ps) ≡ true → So (node ObjectExpression (made [] []) (many (trees ps) then done))
  object-so ps h = and_from (T ObjectExpression (made [] []) (many (trees ps) then done)) (all_in_trees T (trees ps) && true) (objects (trees ps)) (and_from (all_in_trees T (trees ps)) true h refl)

  first-so : (t : Tree) (ts : List Tree) → all_nodes T t ≡ true → all_in_trees T (trees ts) ≡ true → all_in_trees T (trees (t ∷ ts)) ≡ true
  first-so t ts h g = and_from (all_nodes T t) (all_in_trees T (trees ts)) h g

  last-so : (ps : List Tree) (t : Tree) → all_in_trees T (trees ps) ≡ true → all_nodes T t ≡ true → all_in_trees T (trees (ps ++ t ∷ [])) ≡ true
  last-so [] t h g = first-so t [] g refl
  last-so (p ∷ ps) t h g = let d = and_parts (all_nodes T p) (all_in_trees T (trees ps)) h in first-so p (ps ++ t ∷ []) d.0 (last-so ps t d.1 g)

  abbrev CopiedSo : Option Tree → Type 0
  CopiedSo None = Unit {0}
  CopiedSo (Some c) = So c

  copied-so : (c : Option Tree) (ps : List Tree) (e : Tree) → CopiedSo c → all_in_trees T (trees ps) ≡ true → all_nodes T e ≡ true → So (copied helper c ps e)
  copied-so None ps e h hp he = call-so (object_node ps ∷ e ∷ []) (first-so (object_node ps) (e ∷ []) (object-so ps hp) (first-so e [] he refl))
  copied-so (Some c) [] e h hp he = call-so (c ∷ e ∷ []) (first-so c (e ∷ []) h (first-so e [] he refl))
  copied-so (Some c) (p ∷ ps) e h hp he = call-so (c ∷ object_node [] ∷ object_node (p ∷ ps) ∷ e ∷ []) (first-so c (object_node [] ∷ object_node (p ∷ ps) ∷ e ∷ []) h (first-so (object_node []) (object_node (p ∷ ps) ∷ e ∷ []) (object-so [] refl) (first-so (object_node (p ∷ ps)) (e ∷ []) (object-so (p ∷ ps) hp) (first-so e [] he refl))))

  last-copied-so : (c : Option Tree) (ps : List Tree) → CopiedSo c → all_in_trees T (trees ps) ≡ true → So (last_copied helper c ps)
  last-copied-so None ps h hp = object-so ps hp
  last-copied-so (Some c) [] h hp = h
  last-copied-so (Some c) (p ∷ ps) h hp = call-so (c ∷ object_node [] ∷ object_node (p ∷ ps) ∷ []) (first-so c (object_node [] ∷ object_node (p ∷ ps) ∷ []) h (first-so (object_node []) (object_node (p ∷ ps) ∷ []) (object-so [] refl) (first-so (object_node (p ∷ ps)) [] (object-so (p ∷ ps) hp) refl)))

  pub copies-so : (c : Option Tree) (ps : List Tree) (ts : Trees) (u : Tree) → Copies helper c ps ts u → CopiedSo c → all_in_trees T (trees ps) ≡ true → all_in_trees T ts ≡ true → So u
  copies-so c ps _ _ no_more h hp ht = last-copied-so c ps h hp
  copies-so c ps _ u (copies {l = l} {e = e} {ts = ts} k) h hp ht =
      let d = and_parts (T SpreadElement l (one e then done) && (all_nodes T e && true)) (all_in_trees T ts) ht in
      let s = and_parts (T SpreadElement l (one e then done)) (all_nodes T e && true) d.0 in
      copies-so (Some (copied helper c ps e)) [] ts u k (copied-so c ps e h hp (and_parts (all_nodes T e) true s.1).0) refl d.1
  copies-so c ps _ u (keeps {t = t} {ts = ts} n k) h hp ht =
      let d = and_parts (all_nodes T t) (all_in_trees T ts) ht in
      copies-so c (ps ++ t ∷ []) ts u k h (last-so ps t hp d.0) d.1

  -- the row
  pub spread-so : ((m : Label) (u : Tree) → all_nodes T (placed m u) ≡ all_nodes T u) → (n : Site) (w : Whole) (bs : List Bound) (t u : Tree) → SpreadRule n w bs t u → So t → So u
  spread-so same n w bs _ _ (spreads {m = m} {ps = ps} {u = u} scope used some none made_so) h =
      let d = and_parts (T ObjectExpression m (many ps then done)) (all_in_trees T ps && true) h in
      same m u ∙ copies-so None [] ps u made_so tt refl (and_parts (all_in_trees T ps) true d.1).0

-- WHAT IS MADE is a call or an object literal

pub record IsCopy (t : Tree) : Type 0 where
  pub kind : is_copy (kind_of t) ≡ true
  pub text : own_text t ≡ []

abbrev AreCopied : Option Tree → Type 0
AreCopied None = Unit {0}
AreCopied (Some c) = IsCopy c

copied-copy : (c : Option Tree) (ps : List Tree) (e : Tree) → IsCopy (copied helper c ps e)
copied-copy None ps e = record { kind = refl; text = refl }
copied-copy (Some c) [] e = record { kind = refl; text = refl }
copied-copy (Some c) (p ∷ ps) e = record { kind = refl; text = refl }

last-copy : (c : Option Tree) (ps : List Tree) → AreCopied c → IsCopy (last_copied helper c ps)
last-copy None ps h = record { kind = refl; text = refl }
last-copy (Some c) [] h = h
last-copy (Some c) (p ∷ ps) h = record { kind = refl; text = refl }

copies-copy : (c : Option Tree) (ps : List Tree) (ts : Trees) (u : Tree) → Copies helper c ps ts u → AreCopied c → IsCopy u
copies-copy c ps _ _ no_more h = last-copy c ps h
copies-copy c ps _ u (copies {e = e} {ts = ts} k) h = copies-copy (Some (copied helper c ps e)) [] ts u k (copied-copy c ps e)
copies-copy c ps _ u (keeps {t = t} {ts = ts} n k) h = copies-copy c (ps ++ t ∷ []) ts u k h

placed-copy : (m : Label) (u : Tree) → IsCopy u → IsCopy (placed m u)
placed-copy m (node k l fs) h = record { kind = h.kind; text = h.text }

pub spread-copy : (n : Site) (w : Whole) (bs : List Bound) (t u : Tree) → SpreadRule n w bs t u → IsCopy u
spread-copy n w bs _ _ (spreads {m = m} {ps = ps} {u = u} scope used some none made_so) = placed-copy m u (copies-copy None [] ps u made_so tt)
