-- Statements in front of the first that is no import.
use Rattle.std.proofs.Common.{◌≡◌, ℕ, suc, ◌+◌, ◌≤◌, refl, sym, ◌∙◌, ap, Bool, true, false, cond, List, [], ◌∷◌, ◌++◌, map, length, take, drop, arith, add-one, append_assoc, Option, None, Some}
use Rattle.std.specs.Prelude.{option_map, option_to_list}
use Rattle.std.proofs.Math.Seq.{take-append_seam}
use Rattle.es_tree.specs.Bare.{bare}
use Rattle.es_tree.specs.Tree.{Tree, node}
use Rattle.lower_stores.specs.Insertions.{StandsAmong, none_left, this_one}
use Rattle.lower_stores.specs.TopLevel.{behind_imports, imports_before, is_import, with_declarations}
use Rattle.lower_stores.proofs.WovenLemmas.{behind}

pub stands_all : (ss : List Tree) → StandsAmong ss ss
stands_all [] = none_left []
stands_all (s ∷ ss) = this_one s ss ss (stands_all ss)

le_choice : (b : Bool) (m n : ℕ) → m ≤ n → cond b (m + 1) 0 ≤ suc n
le_choice true m n h = omega arith
le_choice false m n h = omega arith

pub imports_before-le : (ss : List Tree) → imports_before ss ≤ length ss
imports_before-le [] = omega arith
imports_before-le (s ∷ ss) = le_choice (is_import s) (imports_before ss) (length ss) (imports_before-le ss)

parts_choice : (b : Bool) (n : ℕ) (ts : List Tree) (s : Tree) (ss us : List Tree) → us ≡ take n ss ++ (ts ++ drop n ss) → cond b (s ∷ us) (ts ++ s ∷ ss) ≡ take (cond b (n + 1) 0) (s ∷ ss) ++ (ts ++ drop (cond b (n + 1) 0) (s ∷ ss))
parts_choice true n ts s ss us h = ap (λ l. s ∷ l) h ∙ ap (λ k. take k (s ∷ ss) ++ (ts ++ drop k (s ∷ ss))) (sym (add-one n))
parts_choice false n ts s ss us h = refl

pub behind_imports-parts : (ts ss : List Tree) → behind_imports ts ss ≡ take (imports_before ss) ss ++ (ts ++ drop (imports_before ss) ss)
behind_imports-parts ts [] = sym (nothing_more ts)
  where
    nothing_more : (ts : List Tree) → ts ++ [] ≡ ts
    nothing_more [] = refl
    nothing_more (t ∷ ts) = ap (λ l. t ∷ l) (nothing_more ts)
behind_imports-parts ts (s ∷ ss) =
    parts_choice (is_import s) (imports_before ss) ts s ss (behind_imports ts ss) (behind_imports-parts ts ss)

is_import-bare : (s : Tree) → is_import (bare s) ≡ is_import s
is_import-bare (node k l fs) = refl

map_choice : (b : Bool) (xs ys : List Tree) → map bare (cond b xs ys) ≡ cond b (map bare xs) (map bare ys)
map_choice true xs ys = refl
map_choice false xs ys = refl

map-append : (xs ys : List Tree) → map bare (xs ++ ys) ≡ map bare xs ++ map bare ys
map-append [] ys = refl
map-append (x ∷ xs) ys = ap (λ l. bare x ∷ l) (map-append xs ys)

pub bare-behind_imports : (ts ss : List Tree) → map bare (behind_imports ts ss) ≡ behind_imports (map bare ts) (map bare ss)
bare-behind_imports ts [] = refl
bare-behind_imports ts (s ∷ ss) =
    map_choice (is_import s) (s ∷ behind_imports ts ss) (ts ++ s ∷ ss)
    ∙ (λ i. cond (sym (is_import-bare s) i) (bare s ∷ bare-behind_imports ts ss i) (map-append ts (s ∷ ss) i))

among_choice : (b : Bool) (ts : List Tree) (s : Tree) (ss us : List Tree) → StandsAmong ss us → StandsAmong (s ∷ ss) (cond b (s ∷ us) (ts ++ s ∷ ss))
among_choice true ts s ss us h = this_one s ss us h
among_choice false ts s ss us h = behind ts (s ∷ ss) (s ∷ ss) (stands_all (s ∷ ss))

pub among-behind_imports : (ts ss : List Tree) → StandsAmong ss (behind_imports ts ss)
among-behind_imports ts [] = none_left ts
among-behind_imports ts (s ∷ ss) = among_choice (is_import s) ts s ss (behind_imports ts ss) (among-behind_imports ts ss)

-- what a write to all of a vector leaves
pub all_written : (xs rest : List Tree) (n : ℕ) → length xs ≡ n → take n (xs ++ rest) ≡ xs
all_written xs rest n e = ap (λ n. take n (xs ++ rest)) (sym e) ∙ take-append_seam xs rest

bare-list : (o : Option Tree) → map bare (option_to_list o) ≡ option_to_list (option_map bare o)
bare-list None = refl
bare-list (Some t) = refl

-- declarations behind what is stored
pub bare-declarations : (ss is js ks : List Tree) (var lets : Option Tree) → js ≡ is ++ option_to_list var → ks ≡ js ++ option_to_list lets → ss ++ map bare ks ≡ with_declarations ss (map bare is) (option_map bare var) (option_map bare lets)
bare-declarations ss is bs ks var lets e f =
    let js = map bare is in
    let vs = option_to_list (option_map bare var) in
    let cs = option_to_list (option_map bare lets) in
    ap (λ ks. ss ++ map bare ks) (f ∙ ap (λ js. js ++ option_to_list lets) e)
    ∙ ap (λ l. ss ++ l) (map-append (is ++ option_to_list var) (option_to_list lets) ∙ (λ i. (map-append is (option_to_list var) ∙ ap (λ l. js ++ l) (bare-list var)) i ++ bare-list lets i))
    ∙ sym (append_assoc ss (js ++ vs) cs) ∙ ap (λ l. l ++ cs) (sym (append_assoc ss js vs))
