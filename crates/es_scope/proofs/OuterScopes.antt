-- The outermost scopes in the first fields and the first trees of a node, one more at a time, and that they are children.
use Rattle.std.proofs.Common.{◌≡◌, ℕ, zero, suc, ◌+◌, ◌<◌, ◌==◌, ◌||◌, Bool, true, false, if◌then◌else◌, Option, Some, None, List, [], ◌∷◌, ◌++◌, map, take, length, get_or, append_assoc, append-nil, add-one, refl, sym, ap, ◌∙◌, arith}
use Rattle.std.proofs.lemmas.Bool.{eqb-true}
use Rattle.std.proofs.lemmas.List.Folds.{list_any-append}
use Rattle.es_tree.specs.References.{is_symbol as is_number}
use Rattle.es_tree.specs.Tree.{Tree, node, Fields, done, ◌then◌, Field, missing, one, many, statements, Trees, empty, ◌before◌, fields, trees}
use Rattle.es_tree.specs.Views.{plain_field}
use Rattle.es_tree.specs.declared.ids.ScopeId.{ScopeId}
use Rattle.es_tree.specs.declared.node.Field.{Field as NodeField}
use Rattle.es_scope.specs.OuterScopes.{child_if, is_outside, outer_in_field, outer_in_fields, outer_in_trees, outer_of, outer_scopes, scope_mark}
use Rattle.es_scope.specs.TableSettings.{InsertsScope, has_number, is_one_of}
use Rattle.es_scope.specs.Tables.{parent_of, scope_count}
use Rattle.es_scope.specs.declared.flags.ScopeFlags.{ScopeFlags}
use Rattle.es_scope.specs.declared.scoping.Scoping.{Scoping}

-- ONE MORE

fields_more : (s : Scoping) (up : ℕ) (outside : ℕ → Bool) (xs : List NodeField) (i : ℕ) (f : NodeField) → i < length xs → f ≡ get_or xs i f → outer_in_fields s up outside (fields (map plain_field (take (suc i) xs))) ≡ outer_in_fields s up outside (fields (map plain_field (take i xs))) ++ outer_in_field s up (outside i) (plain_field f)
fields_more s up outside [] i f h e = absurd (omega arith)
fields_more s up outside (x ∷ xs) zero f h e = rw (← e) (append-nil (outer_in_field s up (outside zero) (plain_field f)))
fields_more s up outside (x ∷ xs) (suc i) f h e =
    let shorter : i < length xs = omega arith in
    ap (λ ns. outer_in_field s up (outside zero) (plain_field x) ++ ns) (fields_more s up (λ n. outside (suc n)) xs i f shorter e) ∙ sym (append_assoc (outer_in_field s up (outside zero) (plain_field x)) _ _)

pub outer_in_fields-more : (s : Scoping) (up : ℕ) (outside : ℕ → Bool) (xs : List NodeField) (i : ℕ) (f : NodeField) → i < length xs → f ≡ get_or xs i f → outer_in_fields s up outside (fields (map plain_field (take (i + 1) xs))) ≡ outer_in_fields s up outside (fields (map plain_field (take i xs))) ++ outer_in_field s up (outside i) (plain_field f)
outer_in_fields-more s up outside xs i f h e = rw (add-one i) (fields_more s up outside xs i f h e)

trees_more : (s : Scoping) (up : ℕ) (ts : List Tree) (i : ℕ) (t : Tree) → i < length ts → t ≡ get_or ts i t → outer_in_trees s up (trees (take (suc i) ts)) ≡ outer_in_trees s up (trees (take i ts)) ++ outer_scopes s up t
trees_more s up [] i t h e = absurd (omega arith)
trees_more s up (u ∷ ts) zero t h e = rw (← e) (append-nil (outer_scopes s up t))
trees_more s up (u ∷ ts) (suc i) t h e =
    let shorter : i < length ts = omega arith in
    ap (λ ns. outer_scopes s up u ++ ns) (trees_more s up ts i t shorter e) ∙ sym (append_assoc (outer_scopes s up u) _ _)

pub outer_in_trees-more : (s : Scoping) (up : ℕ) (ts : List Tree) (i : ℕ) (t : Tree) → i < length ts → t ≡ get_or ts i t → outer_in_trees s up (trees (take (i + 1) ts)) ≡ outer_in_trees s up (trees (take i ts)) ++ outer_scopes s up t
outer_in_trees-more s up ts i t h e = rw (add-one i) (trees_more s up ts i t h e)

-- scopes that were found, and more of them
pub found_more : (old mid new xs ys zs : List ℕ) → mid ≡ old ++ xs → new ≡ mid ++ ys → zs ≡ xs ++ ys → new ≡ old ++ zs
found_more old mid new xs ys zs e f h = f ∙ (ap (λ ns. ns ++ ys) e ∙ (append_assoc old xs ys ∙ ap (λ ns. old ++ ns) (sym h)))

-- THEY ARE CHILDREN

-- each of these scopes has this parent
abbrev pub AreChildren : Scoping → ℕ → List ℕ → Type 0
AreChildren s up ns = (n : ℕ) → has_number ns n ≡ true → parent_of s n ≡ Some up

no_children : (s : Scoping) (up : ℕ) → AreChildren s up []
no_children s up = λ n e. absurd (cc)

more_children : (s : Scoping) (up : ℕ) (xs ys : List ℕ) → AreChildren s up xs → AreChildren s up ys → AreChildren s up (xs ++ ys)
more_children s up xs ys h k = λ n e. at n (has_number xs n) (has_number ys n) refl refl (sym (list_any-append (λ m. m == n) xs ys) ∙ e) where
  at : (n : ℕ) (b c : Bool) → has_number xs n ≡ b → has_number ys n ≡ c → (b || c) ≡ true → parent_of s n ≡ Some up
  at n true c f g e = h n f
  at n false true f g e = k n g
  at n false false f g e = absurd (cc)

one_child : (s : Scoping) (up n : ℕ) → parent_of s n ≡ Some up → AreChildren s up (n ∷ [])
one_child s up n h = λ m e. at m (n == m) refl e where
  at : (m : ℕ) (b : Bool) → (n == m) ≡ b → (b || false) ≡ true → parent_of s m ≡ Some up
  at m true g e = ap (parent_of s) (sym (eqb-true n m g)) ∙ h
  at m false g e = absurd (cc)

is_up : (up : ℕ) (o : Option ℕ) → is_number up o ≡ true → o ≡ Some up
is_up up None e = absurd (cc)
is_up up (Some n) e = ap Some (eqb-true n up e)

child_if-child : (s : Scoping) (up : ℕ) (o : Option ℕ) → AreChildren s up (child_if s up o)
child_if-child s up None = no_children s up
child_if-child s up (Some n) = at (is_number up (parent_of s n)) refl where
  at : (b : Bool) → is_number up (parent_of s n) ≡ b → AreChildren s up (if b then n ∷ [] else [])
  at true g = one_child s up n (is_up up (parent_of s n) g)
  at false g = no_children s up

outer_of-children : (s : Scoping) (up : ℕ) (o : Option ℕ) → AreChildren s up (outer_of s up o)
outer_of-children s up None = no_children s up
outer_of-children s up (Some m) = at (is_number up (parent_of s m)) refl where
  at : (b : Bool) → is_number up (parent_of s m) ≡ b → AreChildren s up (if b then m ∷ [] else child_if s up (parent_of s m))
  at true g = one_child s up m (is_up up (parent_of s m) g)
  at false g = child_if-child s up (parent_of s m)

if_children : (s : Scoping) (up : ℕ) (b : Bool) (ns : List ℕ) → AreChildren s up ns → AreChildren s up (if b then ns else [])
if_children s up true ns h = h
if_children s up false ns h = no_children s up

mutual
  pub outer-children : (s : Scoping) (up : ℕ) (t : Tree) → AreChildren s up (outer_scopes s up t)
  outer-children s up (node k l fs) = more_children s up (outer_of s up (scope_mark k l.marks)) (outer_in_fields s up (is_outside k l.marks) fs) (outer_of-children s up (scope_mark k l.marks)) (outer_in_fields-children s up (is_outside k l.marks) fs)

  outer_in_fields-children : (s : Scoping) (up : ℕ) (outside : ℕ → Bool) (fs : Fields) → AreChildren s up (outer_in_fields s up outside fs)
  outer_in_fields-children s up outside done = no_children s up
  outer_in_fields-children s up outside (f then fs) = more_children s up (outer_in_field s up (outside zero) f) (outer_in_fields s up (λ i. outside (suc i)) fs) (outer_in_field-children s up (outside zero) f) (outer_in_fields-children s up (λ i. outside (suc i)) fs)

  outer_in_field-children : (s : Scoping) (up : ℕ) (outside : Bool) (f : Field) → AreChildren s up (outer_in_field s up outside f)
  outer_in_field-children s up outside missing = no_children s up
  outer_in_field-children s up outside (one t) = if_children s up outside (outer_scopes s up t) (outer-children s up t)
  outer_in_field-children s up outside (many ts) = if_children s up outside (outer_in_trees s up ts) (outer_in_trees-children s up ts)
  outer_in_field-children s up outside (statements ts) = if_children s up outside (outer_in_trees s up ts) (outer_in_trees-children s up ts)

  pub outer_in_trees-children : (s : Scoping) (up : ℕ) (ts : Trees) → AreChildren s up (outer_in_trees s up ts)
  outer_in_trees-children s up empty = no_children s up
  outer_in_trees-children s up (t before ts) = more_children s up (outer_scopes s up t) (outer_in_trees s up ts) (outer-children s up t) (outer_in_trees-children s up ts)

-- THEIR NUMBERS

-- scopes by their numbers
pub by_number : (xs : List ScopeId) (n : ℕ) → is_one_of xs n ≡ has_number (map (λ c. c.0) xs) n
by_number [] n = refl
by_number (x ∷ xs) n = ap (λ b. x.0 == n || b) (by_number xs n)

-- the same scopes by their numbers are moved
pub inserted_alike : (old new : Scoping) (parent : ℕ) (flags : ScopeFlags) (xs : List ScopeId) (ns : List ℕ) → map (λ c. c.0) xs ≡ ns → InsertsScope old new parent flags (is_one_of xs) → InsertsScope old new parent flags (has_number ns)
inserted_alike old new parent flags xs ns e h = record {
  count = h.count;
  parents = λ n. h.parents n ∙ ap (λ b. if n == scope_count old then Some parent else if b then Some (scope_count old) else parent_of old n) (by_number xs n ∙ ap (λ ms. has_number ms n) e);
  flags_are = h.flags_are;
  beside = h.beside;
}
