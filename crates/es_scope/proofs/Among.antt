-- The names in the first fields and the first trees of a node, one more at a time.
use Rattle.std.proofs.Common.{◌≡◌, ℕ, zero, suc, ◌+◌, ◌<◌, Bool, true, false, ◌||◌, List, [], ◌∷◌, ◌++◌, map, take, length, get_or, bytes_eq, string_bytes, String, HashSet, cond, append_assoc, append-nil, add-one, refl, sym, ap, ◌∙◌, arith}
use Rattle.std.proofs.lemmas.List.Folds.{list_any-append}
use Rattle.std.proofs.lemmas.Map.Text.{hash_set_updates_text}
use Rattle.std.specs.HashSet.{contains_text, UpdatesBy}
use Rattle.std.specs.String.{string_eq}
use Rattle.es_tree.specs.Words.{Text}
use Rattle.es_tree.specs.Fresh.{also, is_among}
use Rattle.es_tree.specs.Names.{is_name_place, is_reexport, own_name, names_if, names_in_fields, names_in_field, names_in_trees}
use Rattle.es_tree.specs.Tree.{Tree, node, Label, Fields, kind_of, label_of, fields_of, fields, trees}
use Rattle.es_tree.specs.Views.{plain_field}
use Rattle.es_tree.specs.declared.ast_type.AstType.{AstType}
use Rattle.es_tree.specs.declared.node.Field.{Field as NodeField}

or_assoc : (a b c : Bool) → ((a || b) || c) ≡ (a || (b || c))
or_assoc true b c = refl
or_assoc false b c = refl

pub or_nothing : (b : Bool) → b ≡ (b || false)
or_nothing true = refl
or_nothing false = refl

also-cond : (b used : Bool) → cond b true used ≡ (used || b)
also-cond true true = refl
also-cond true false = refl
also-cond false true = refl
also-cond false false = refl

-- a name more in the set
pub also-inserted : {Y S : Type 0} (old new : HashSet (String Y) S) (key name : Text) → UpdatesBy string_eq (λ k. bytes_eq key (string_bytes k)) old new true → key ≡ name → (x : Text) → contains_text new x ≡ also name (contains_text old) x
also-inserted old new key name updated same x =
    hash_set_updates_text key old new true updated x ∙ (rw same (also-cond (bytes_eq name x) (contains_text old x)))

-- names that a text is among before and after more of them
pub among_more : (old mid new : Bool) (xs ys zs : List Text) (x : Text) → mid ≡ (old || is_among xs x) → new ≡ (mid || is_among ys x) → zs ≡ xs ++ ys → new ≡ (old || is_among zs x)
among_more old mid new xs ys zs x e f h = rw (f, e, h, list_any-append (λ y. bytes_eq y x) xs ys) (or_assoc old (is_among xs x) (is_among ys x))

fields_more : (counts : ℕ → Bool) (xs : List NodeField) (i : ℕ) (f : NodeField) → i < length xs → f ≡ get_or xs i f → names_in_fields counts (fields (map plain_field (take (suc i) xs))) ≡ names_in_fields counts (fields (map plain_field (take i xs))) ++ names_in_field (counts i) (plain_field f)
fields_more counts [] i f h e = absurd (omega arith)
fields_more counts (x ∷ xs) zero f h e = rw (← e) (append-nil (names_in_field (counts zero) (plain_field f)))
fields_more counts (x ∷ xs) (suc i) f h e =
    let below : i < length xs = omega arith in
    ap (λ ns. names_in_field (counts zero) (plain_field x) ++ ns) (fields_more (λ n. counts (suc n)) xs i f below e) ∙ sym (append_assoc (names_in_field (counts zero) (plain_field x)) _ _)

pub names_in_fields-more : (counts : ℕ → Bool) (xs : List NodeField) (i : ℕ) (f : NodeField) → i < length xs → f ≡ get_or xs i f → names_in_fields counts (fields (map plain_field (take (i + 1) xs))) ≡ names_in_fields counts (fields (map plain_field (take i xs))) ++ names_in_field (counts i) (plain_field f)
names_in_fields-more counts xs i f h e = rw (add-one i) (fields_more counts xs i f h e)

trees_more : (ts : List Tree) (i : ℕ) (t : Tree) → i < length ts → t ≡ get_or ts i t → names_in_trees (trees (take (suc i) ts)) ≡ names_in_trees (trees (take i ts)) ++ names_if true t
trees_more [] i t h e = absurd (omega arith)
trees_more (u ∷ ts) zero t h e = rw (← e) (append-nil (names_if true t))
trees_more (u ∷ ts) (suc i) t h e =
    let below : i < length ts = omega arith in
    ap (λ ns. names_if true u ++ ns) (trees_more ts i t below e) ∙ sym (append_assoc (names_if true u) _ _)

pub names_in_trees-more : (ts : List Tree) (i : ℕ) (t : Tree) → i < length ts → t ≡ get_or ts i t → names_in_trees (trees (take (i + 1) ts)) ≡ names_in_trees (trees (take i ts)) ++ names_if true t
names_in_trees-more ts i t h e = rw (add-one i) (trees_more ts i t h e)

-- the names in a node that is no export from another module
pub names_if-kept : (counts : Bool) (t : Tree) (k : AstType) (l : Label) (fs : Fields) → node k l fs ≡ t → false ≡ is_reexport (kind_of t) (fields_of t) → names_if counts t ≡ own_name counts k l ++ names_in_fields (is_name_place k l) fs
names_if-kept counts (node k' l' fs') k l fs e r = rw (ap kind_of e, ap label_of e, ap fields_of e, ← r) refl
