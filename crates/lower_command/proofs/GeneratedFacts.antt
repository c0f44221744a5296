-- What holds of the script of any number of statements.
use Rattle.std.proofs.Common.{◌≡◌, ℕ, zero, suc, ◌+◌, ◌*◌, ◌/◌, ◌%◌, ◌<◌, ◌≤◌, ◌^◌, List, [], ◌++◌, map, Bool, true, false, refl, ap, ◌∙◌, subst, arith, rules}
use Rattle.std.proofs.Math.Dec.{eqb-suc-zero}
use Rattle.std.proofs.lemmas.List.{append-nil}
use Rattle.std.specs.List.{range_with_len}
use Rattle.es_tree.specs.Core.{IsCoreProgram, is_core_node}
use Rattle.es_tree.specs.CoreStaticRules.{Visit, breaks_after, visits, visits_in_trees}
use Rattle.es_tree.specs.HasForm.{has_form, same_type, trees_form, sort_before_trees}
use Rattle.es_tree.specs.Order.{IsNumbered, AreTreesNumbered, IsUnmarked, AreTreesUnmarked}
use Rattle.es_tree.specs.Scopes.{declared_by, declared_in_body, declared_of}
use Rattle.es_tree.specs.StaticRules.{breaks}
use Rattle.es_tree.specs.Tree.{Label, Fields, Trees, empty, ◌before◌, trees, tree_size, trees_size}
use Rattle.es_tree.specs.Walks.{all_nodes, all_in_trees, any_in_trees, any_node}
use Rattle.es_tree.specs.declared.ast_type.AstType.{AstType}
use Rattle.es_tree.specs.declared.ast_type.AstType.TheVariants.{BigIntLiteral}
use Rattle.es_tree.specs.declared.place.Place.TheVariants.{ProgramBody}
use Rattle.es_tree.specs.declared.table.Sort.{Sort}
use Rattle.es_tree.specs.declared.table.Sort.TheVariants.{Program as s-Program, Statement as s-Statement}
use Rattle.es_tree.proofs.CoreBreaks.{breaks-core}
use Rattle.lower_command.specs.Generated.{generated, generated_statement, nodes_of_first, start_of, statement_for}

abbrev pub is_big_int : AstType → Label → Fields → Bool
is_big_int k l fs = same_type k BigIntLiteral

-- THE FOUR FORMS

form : (r i id : ℕ) → has_form s-Statement (statement_for r i id) ≡ true
form zero i id = simp eqb-suc-zero
form (suc zero) i id = simp eqb-suc-zero
form (suc (suc zero)) i id = simp eqb-suc-zero
form (suc (suc (suc r))) i id = simp eqb-suc-zero

core : (r i id : ℕ) → all_nodes is_core_node (statement_for r i id) ≡ true
core zero i id = refl
core (suc zero) i id = refl
core (suc (suc zero)) i id = refl
core (suc (suc (suc r))) i id = refl

declares_none : (r i id : ℕ) → declared_by (statement_for r i id) ≡ []
declares_none zero i id = refl
declares_none (suc zero) i id = refl
declares_none (suc (suc zero)) i id = refl
declares_none (suc (suc (suc r))) i id = refl

no_big_int : (r i id : ℕ) → any_node is_big_int (statement_for r i id) ≡ false
no_big_int zero i id = refl
no_big_int (suc zero) i id = refl
no_big_int (suc (suc zero)) i id = refl
no_big_int (suc (suc (suc r))) i id = refl

kept : (r i id : ℕ) (vs : List Visit) → breaks_after [] (visits ProgramBody (statement_for r i id) ++ vs) ≡ breaks_after [] vs
kept zero i id vs = refl
kept (suc zero) i id vs = refl
kept (suc (suc zero)) i id vs = refl
kept (suc (suc (suc r))) i id vs = refl

unmarked : (r i id : ℕ) → IsUnmarked (statement_for r i id)
unmarked zero i id = search rules
unmarked (suc zero) i id = search rules
unmarked (suc (suc zero)) i id = search rules
unmarked (suc (suc (suc r))) i id = search rules

numbered : (r i id : ℕ) → IsNumbered id (statement_for r i id)
numbered zero i id = search rules
numbered (suc zero) i id = search rules
numbered (suc (suc zero)) i id = search rules
numbered (suc (suc (suc r))) i id = search rules

-- STARTS

start_by : (i q r : ℕ) → i / 4 ≡ q → i % 4 ≡ r → start_of i ≡ 1 + 27 * q + nodes_of_first r
start_by i q r d e = rw (d, e) refl

-- the next statement starts behind this one
next_start : (j i id q r : ℕ) → j / 4 ≡ q → j % 4 ≡ r → start_of (j + 1) ≡ start_of j + tree_size (statement_for r i id)
next_start j i id q zero d e = omega (arith, start_by j q 0 d e, start_by (j + 1) q 1 (omega arith) (omega arith))
next_start j i id q (suc zero) d e = omega (arith, start_by j q 1 d e, start_by (j + 1) q 2 (omega arith) (omega arith))
next_start j i id q (suc (suc zero)) d e = omega (arith, start_by j q 2 d e, start_by (j + 1) q 3 (omega arith) (omega arith))
next_start j i id q (suc (suc (suc zero))) d e = omega (arith, start_by j q 3 d e, start_by (j + 1) (q + 1) 0 (omega arith) (omega arith))
next_start j i id q (suc (suc (suc (suc r)))) d e = absurd (omega arith)

pub start_of-next : (i : ℕ) → start_of (i + 1) ≡ start_of i + tree_size (generated_statement i)
start_of-next i = next_start i i (start_of i) (i / 4) (i % 4) refl refl

few : (r : ℕ) → nodes_of_first r ≤ 21
few zero = omega arith
few (suc zero) = omega arith
few (suc (suc zero)) = omega arith
few (suc (suc (suc r))) = omega arith

pub start_of-small : (i : ℕ) → i ≤ 20000 → start_of i < 2 ^ 18
start_of-small i h = omega (arith, few (i % 4))

-- ANY NUMBER OF STATEMENTS

abbrev body : ℕ → ℕ → Trees
body i n = trees (map generated_statement (range_with_len i n))

body_size : (i n : ℕ) → start_of i + trees_size (body i n) ≡ start_of (i + n)
body_size i zero = let same : i + 0 ≡ i = omega arith in omega (arith, ap start_of same)
body_size i (suc n) =
    let same : i + 1 + n ≡ i + suc n = omega arith in omega (arith, start_of-next i, body_size (i + 1) n, ap start_of same)

same_sort : (s : Sort) (ts : Trees) → sort_before_trees s s ts ≡ s
same_sort s empty = refl
same_sort s (t before ts) = refl

body_form : (i n : ℕ) → trees_form s-Statement s-Statement (body i n) ≡ true
body_form i zero = refl
body_form i (suc n) = rw (same_sort s-Statement (body (i + 1) n), form (i % 4) i (start_of i)) (body_form (i + 1) n)

body_core : (i n : ℕ) → all_in_trees is_core_node (body i n) ≡ true
body_core i zero = refl
body_core i (suc n) = rw (core (i % 4) i (start_of i)) (body_core (i + 1) n)

body_declares : (i n : ℕ) → declared_in_body (body i n) ≡ []
body_declares i zero = refl
body_declares i (suc n) = rw (declares_none (i % 4) i (start_of i)) (body_declares (i + 1) n)

body_no_big_int : (i n : ℕ) → any_in_trees is_big_int (body i n) ≡ false
body_no_big_int i zero = refl
body_no_big_int i (suc n) = rw (no_big_int (i % 4) i (start_of i)) (body_no_big_int (i + 1) n)

body_kept : (i n : ℕ) → breaks_after [] (visits_in_trees ProgramBody (body i n)) ≡ []
body_kept i zero = refl
body_kept i (suc n) = kept (i % 4) i (start_of i) (visits_in_trees ProgramBody (body (i + 1) n)) ∙ body_kept (i + 1) n

body_unmarked : (i n : ℕ) → AreTreesUnmarked (body i n)
body_unmarked i zero = tt
body_unmarked i (suc n) = (unmarked (i % 4) i (start_of i), body_unmarked (i + 1) n)

body_numbered : (i n : ℕ) → AreTreesNumbered (start_of i) (body i n)
body_numbered i zero = tt
body_numbered i (suc n) =
    let P : ℕ → Type 0 = λ id. AreTreesNumbered id (body (i + 1) n) in
    (numbered (i % 4) i (start_of i), subst P (start_of-next i) (body_numbered (i + 1) n))

-- THE SCRIPT

pub generated-core : (n : ℕ) → IsCoreProgram (generated n)
generated-core n = record { form = rw (body_form 0 n) refl; core = rw (body_core 0 n) refl }

pub generated-form : (n : ℕ) → has_form s-Program (generated n) ≡ true
generated-form n = (generated-core n).form

pub generated-kept : (n : ℕ) → breaks (generated n) ≡ []
generated-kept n =
    breaks-core (generated n) (generated-core n)
    ∙ ap (λ vs. breaks_after [] vs) (append-nil (visits_in_trees ProgramBody (body 0 n)))
    ∙ body_kept 0 n

pub generated-declares : (n : ℕ) → declared_of (generated n) ≡ []
generated-declares n = body_declares 0 n

pub generated-no_big_int : (n : ℕ) → any_node is_big_int (generated n) ≡ false
generated-no_big_int n = rw (body_no_big_int 0 n) refl

pub generated-size : (n : ℕ) → tree_size (generated n) ≡ start_of n
generated-size n = let same : 0 + n ≡ n = omega arith in omega (arith, body_size 0 n, ap start_of same)

pub generated-small : (n : ℕ) → n ≤ 20000 → tree_size (generated n) < 2 ^ 20
generated-small n h = omega (arith, generated-size n, start_of-small n h)

pub generated-numbered : (n : ℕ) → IsNumbered 0 (generated n)
generated-numbered n = (refl, (tt, (body_numbered 0 n, tt)))

pub generated-unmarked : (n : ℕ) → IsUnmarked (generated n)
generated-unmarked n = (refl, (tt, (body_unmarked 0 n, tt)))
