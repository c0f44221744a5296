-- How many imports stand first in a list, counted one after the other, and statements that are put behind them.
use Rattle.std.proofs.Common.{◌≡◌, ℕ, zero, suc, ◌+◌, ◌<◌, ◌≤◌, List, [], ◌∷◌, ◌++◌, length, get_or, drop, take, refl, add-one, ap, append-nil, sym, ◌∙◌, arith, true, false}
use Rattle.std.specs.Prelude.{Bool, if◌then◌else◌, insert}
use Rattle.std.proofs.lemmas.List.{take-append-drop}
use Rattle.es_tree.specs.Tree.{Tree, ◌before◌, trees}
use Rattle.es_steps.specs.Nodes.{joined_trees}
use Rattle.es_steps.specs.Open.{after_imports, is_import}
use Rattle.lower_helper_imports.specs.Parts.{imports_before}

-- the next one is an import
pub import-passed : (ts : List Tree) (i : ℕ) (t : Tree) → i < length ts → t ≡ get_or ts i t → is_import t ≡ true → imports_before (drop i ts) ≡ suc (imports_before (drop (suc i) ts))
import-passed [] i t l e h = absurd (omega (arith, l))
import-passed (x ∷ xs) zero t l e h = rw (ap is_import (sym e) ∙ h) refl
import-passed (x ∷ xs) (suc i) t l e h = import-passed xs i t (omega (arith, l)) e h

-- or none
pub import-left : (ts : List Tree) (i : ℕ) (t : Tree) → i < length ts → t ≡ get_or ts i t → is_import t ≡ false → imports_before (drop i ts) ≡ 0
import-left [] i t l e h = absurd (omega (arith, l))
import-left (x ∷ xs) zero t l e h = rw (ap is_import (sym e) ∙ h) refl
import-left (x ∷ xs) (suc i) t l e h = import-left xs i t (omega (arith, l)) e h

-- past the last one there is none
pub imports-end : (ts : List Tree) (i : ℕ) → length ts ≤ i → imports_before (drop i ts) ≡ 0
imports-end [] zero l = refl
imports-end [] (suc i) l = refl
imports-end (x ∷ xs) zero l = absurd (omega (arith, l))
imports-end (x ∷ xs) (suc i) l = imports-end xs i (omega (arith, l))

bounded : (b : Bool) (m n : ℕ) → m ≤ n → (if b then suc m else 0) ≤ suc n
bounded true m n h = omega (arith, h)
bounded false m n h = omega arith

pub imports-within : (ts : List Tree) → imports_before ts ≤ length ts
imports-within [] = omega arith
imports-within (t ∷ ts) = bounded (is_import t) (imports_before ts) (length ts) (imports-within ts)

-- STATEMENTS THAT ARE PUT IN, one after the other

abbrev pub put : List Tree → ℕ → List Tree → List Tree
put ss i ts = take i ts ++ (ss ++ drop i ts)

-- with those that are left put in, the list is what it was with all put in
pub record Inserted (first : ℕ) (ts all : List Tree) (i : ℕ) (now left : List Tree) : Type 0 where
  pub place : i ≤ length now
  pub same : put left i now ≡ put all first ts

put-one : (s : Tree) (ss : List Tree) (i : ℕ) (ts : List Tree) → i ≤ length ts → put ss (suc i) (insert ts i s) ≡ put (s ∷ ss) i ts
put-one s ss zero [] h = refl
put-one s ss zero (t ∷ ts) h = refl
put-one s ss (suc i) [] h = absurd (omega (arith, h))
put-one s ss (suc i) (t ∷ ts) h = ap (λ us. t ∷ us) (put-one s ss i ts (omega (arith, h)))

insert-length : (s : Tree) (i : ℕ) (ts : List Tree) → i ≤ length ts → suc i ≤ length (insert ts i s)
insert-length s zero [] h = omega arith
insert-length s zero (t ∷ ts) h = omega arith
insert-length s (suc i) [] h = absurd (omega (arith, h))
insert-length s (suc i) (t ∷ ts) h = let more = insert-length s i ts (omega (arith, h)) in omega (arith, more)

pub inserted-none : (k : ℕ) (ts all : List Tree) → k ≡ imports_before ts → Inserted k ts all k ts all
inserted-none k ts all e = let within = imports-within ts in record { place = omega (arith, e, within); same = refl }

pub inserted-next : (k : ℕ) (ts all : List Tree) (i : ℕ) (now next left : List Tree) (s : Tree) → next ≡ insert now i s → Inserted k ts all i now (s ∷ left) → Inserted k ts all (i + 1) next left
inserted-next k ts all i now next left s e h = rw (add-one i, e) (record { place = insert-length s i now h.place; same = put-one s left i now h.place ∙ h.same })

-- AS TREES

joined-append : (xs ys : List Tree) → trees (xs ++ ys) ≡ joined_trees (trees xs) (trees ys)
joined-append [] ys = refl
joined-append (x ∷ xs) ys = ap (λ ts. x before ts) (joined-append xs ys)

put-by-import : (b : Bool) (bs : List Tree) (t : Tree) (ts : List Tree) → trees (put bs (imports_before ts) ts) ≡ after_imports (trees bs) (trees ts) →
    trees (put bs (if b then suc (imports_before ts) else 0) (t ∷ ts)) ≡ (if b then t before after_imports (trees bs) (trees ts) else joined_trees (trees bs) (t before trees ts))
put-by-import true bs t ts h = ap (λ us. t before us) h
put-by-import false bs t ts h = joined-append bs (t ∷ ts)

put-trees : (bs ts : List Tree) → trees (put bs (imports_before ts) ts) ≡ after_imports (trees bs) (trees ts)
put-trees bs [] = ap trees (append-nil bs)
put-trees bs (t ∷ ts) = put-by-import (is_import t) bs t ts (put-trees bs ts)

pub inserted-all : (k : ℕ) (ts all : List Tree) (i : ℕ) (now : List Tree) → k ≡ imports_before ts → Inserted k ts all i now [] → trees now ≡ after_imports (trees all) (trees ts)
inserted-all k ts all i now e h = ap trees (sym (take-append-drop i now) ∙ h.same ∙ ap (λ n. put all n ts) e) ∙ put-trees all ts
