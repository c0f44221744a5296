-- How many imports stand first in a list, counted one after the other.
use Rattle.std.proofs.Common.{◌≡◌, ℕ, zero, suc, ◌<◌, ◌≤◌, List, [], ◌∷◌, length, get_or, drop, refl, ap, sym, ◌∙◌, arith, true, false, Option, Some, None}
use Rattle.std.specs.Prelude.{Bool, if◌then◌else◌}
use Rattle.es_tree.specs.Tree.{Tree}
use Rattle.es_steps.specs.Open.{is_import}
use Rattle.lower_writing.specs.Lists.{imports_before, with_statement}

-- the next one is an import
pub import-passed : (ts : List Tree) (i : ℕ) (t : Tree) → i < length ts → t ≡ get_or ts i t → is_import t ≡ true → imports_before (drop i ts) ≡ suc (imports_before (drop (suc i) ts))
import-passed [] i t l e h = absurd (omega (arith, l))
import-passed (x ∷ xs) zero t l e h = rw (ap is_import (sym e) ∙ h) refl
import-passed (x ∷ xs) (suc i) t l e h = import-passed xs i t (omega (arith, l)) e h

-- or none
pub import-left : (ts : List Tree) (i : ℕ) (t : Tree) → i < length ts → t ≡ get_or ts i t → is_import t ≡ false → imports_before (drop i ts) ≡ 0
import-left [] i t l e h = absurd (omega (arith, l))
import-left (x ∷ xs) zero t l e h = rw (ap is_import (sym e) ∙ h) refl
import-left (x ∷ xs) (suc i) t l e h = import-left xs i t (omega (arith, l)) e h

-- past the last one there is none
pub imports-end : (ts : List Tree) (i : ℕ) → length ts ≤ i → imports_before (drop i ts) ≡ 0
imports-end [] zero l = refl
imports-end [] (suc i) l = refl
imports-end (x ∷ xs) zero l = absurd (omega (arith, l))
imports-end (x ∷ xs) (suc i) l = imports-end xs i (omega (arith, l))

bounded : (b : Bool) (m n : ℕ) → m ≤ n → (if b then suc m else 0) ≤ suc n
bounded true m n h = omega (arith, h)
bounded false m n h = omega arith

pub imports-within : (ts : List Tree) → imports_before ts ≤ length ts
imports-within [] = omega arith
imports-within (t ∷ ts) = bounded (is_import t) (imports_before ts) (length ts) (imports-within ts)

-- with a statement more there are no fewer
more-within : (o : Option Tree) (k : ℕ) (ts : List Tree) → k ≤ length ts → k ≤ length (with_statement k o ts)
more-within None k ts h = h
more-within (Some t) zero ts h = omega arith
more-within (Some t) (suc k) [] h = absurd (omega (arith, h))
more-within (Some t) (suc k) (x ∷ xs) h = let rest = more-within (Some t) k xs (omega (arith, h)) in omega (arith, rest)

pub imports-within-more : (o : Option Tree) (ts : List Tree) → imports_before ts ≤ length (with_statement (imports_before ts) o ts)
imports-within-more o ts = more-within o (imports_before ts) ts (imports-within ts)
