-- Lists of statements and of specifiers, one more or all.
use Rattle.std.proofs.Common.{◌≡◌, ◌∙◌, ◌+◌, ◌++◌, ◌<◌, List, [], ◌∷◌, ap, append-nil, append_assoc, arith, get_or, length, refl, sym, take, ℕ}
use Rattle.std.specs.Prelude.{◌||◌, Bool, false, if◌then◌else◌, true}
use Rattle.std.specs.List.{list_any}
use Rattle.std.proofs.lemmas.List.{take_more}
use Rattle.es_tree.specs.Tree.{Tree, Trees, empty, node, one, trees, ◌before◌, ◌then◌}
use Rattle.es_tree.specs.declared.ast_type.AstType.TheVariants.{ExportNamedDeclaration}
use Rattle.es_steps.specs.Nodes.{joined_trees}
use Rattle.es_steps.proofs.Lists.{joined-empty}
use Rattle.es_steps.proofs.Written.{joined-twice}
use Rattle.es_export_splits.specs.Splits.{Makes, is_split, names_of_declarator, names_of_declarators, some_split, specifier, specifiers, split_before, split_list}

pub any-split : (ts : List Tree) → list_any is_split ts ≡ some_split (trees ts)
any-split [] = refl
any-split (t ∷ ts) = ap (λ b. is_split t || b) (any-split ts)

pub joined-push : (ts : List Tree) (t : Tree) → trees (ts ++ t ∷ []) ≡ joined_trees (trees ts) (t before empty)
joined-push [] t = refl
joined-push (u ∷ ts) t = ap (λ us. u before us) (joined-push ts t)

pub pushed-twice : (old mid new : List Tree) (t u : Tree) → mid ≡ old ++ t ∷ [] → new ≡ mid ++ u ∷ [] → trees new ≡ joined_trees (trees old) (t before u before empty)
pushed-twice old mid new t u first second =
    rw (second, joined-push mid u, first, joined-push old t) (joined-twice (trees old) (t before empty) (u before empty))

-- SPECIFIERS

pub specifiers-joined : (m : Makes) (xs ys : List Tree) → specifiers m (xs ++ ys) ≡ joined_trees (specifiers m xs) (specifiers m ys)
specifiers-joined m [] ys = refl
specifiers-joined m (x ∷ xs) ys = ap (λ us. specifier m x before us) (specifiers-joined m xs ys)

pub names-joined : (ds : List Tree) (d : Tree) → names_of_declarators (trees (ds ++ d ∷ [])) ≡ names_of_declarators (trees ds) ++ names_of_declarator d
names-joined [] d = append-nil (names_of_declarator d)
names-joined (e ∷ ds) d = ap (λ xs. names_of_declarator e ++ xs) (names-joined ds d) ∙ sym (append_assoc (names_of_declarator e) _ _)

-- one name more
pub specifiers-next : (m : Makes) (old mid new xs : List Tree) (i : ℕ) (x made : Tree) → i < length xs → x ≡ get_or xs i x → trees mid ≡ joined_trees (trees old) (specifiers m (take i xs)) → made ≡ specifier m x → new ≡ mid ++ made ∷ [] → trees new ≡ joined_trees (trees old) (specifiers m (take (i + 1) xs))
specifiers-next m old mid new xs i x made small is so_far says push =
    rw (take_more xs i x small, ← is, push, joined-push mid made, so_far, says, specifiers-joined m (take i xs) (x ∷ [])) (joined-twice (trees old) (specifiers m (take i xs)) (specifier m x before empty))

-- one declarator more
pub declarators-next : (m : Makes) (mid new ds : List Tree) (i : ℕ) (d : Tree) → i < length ds → d ≡ get_or ds i d → trees mid ≡ specifiers m (names_of_declarators (trees (take i ds))) → trees new ≡ joined_trees (trees mid) (specifiers m (names_of_declarator d)) → trees new ≡ specifiers m (names_of_declarators (trees (take (i + 1) ds)))
declarators-next m mid new ds i d small is so_far more =
    rw (take_more ds i d small, ← is, more, so_far, names-joined (take i ds) d, specifiers-joined m (names_of_declarators (trees (take i ds))) (names_of_declarator d)) refl

-- STATEMENTS

before-joined : (m : Makes) (t : Tree) (us : Trees) → joined_trees (split_before m t empty) us ≡ split_before m t us
before-joined m (node ExportNamedDeclaration l (one d then fs)) us = refl
before-joined m _ us = refl

-- a list is split statement by statement
one-more : (m : Makes) (t : Tree) (ts : Trees) → joined_trees (split_list m (t before empty)) (split_list m ts) ≡ split_list m (t before ts)
one-more m t ts = by-test (is_split t)
  where
    by-test : (b : Bool) → joined_trees (if b then split_before m t empty else (t before empty)) (split_list m ts) ≡ (if b then split_before m t (split_list m ts) else (t before split_list m ts))
    by-test true = before-joined m t (split_list m ts)
    by-test false = refl

pub split-next : (m : Makes) (mid new ts : List Tree) (t : Tree) (all : Trees) → joined_trees (trees mid) (split_list m (t before trees ts)) ≡ all → trees new ≡ joined_trees (trees mid) (split_list m (t before empty)) → joined_trees (trees new) (split_list m (trees ts)) ≡ all
split-next m mid new ts t all so_far put =
    ap (λ us. joined_trees us (split_list m (trees ts))) put ∙ (joined-twice (trees mid) (split_list m (t before empty)) (split_list m (trees ts)) ∙ (ap (joined_trees (trees mid)) (one-more m t (trees ts)) ∙ so_far))

pub split-all : (m : Makes) (mid ts : List Tree) (all : Trees) → length ts ≡ 0 → joined_trees (trees mid) (split_list m (trees ts)) ≡ all → trees mid ≡ all
split-all m mid [] all none so_far = sym (joined-empty (trees mid)) ∙ so_far
split-all m mid (t ∷ ts) all none so_far = absurd (omega (arith, none))

pub one-split : (m : Makes) (t : Tree) (b : Bool) → is_split t ≡ b → split_list m (t before empty) ≡ (if b then split_before m t empty else (t before empty))
one-split m t b e = ap (λ c. if c then split_before m t empty else (t before empty)) e
