-- Rows bring no names into a node but those that they take and `Math`, and write no other name than the node did.
use Rattle.std.proofs.Common.{◌≡◌, suc, refl, sym, subst, ap, ◌∙◌, List, [], ◌∷◌, ◌++◌}
use Rattle.std.specs.Prelude.{Bool, true, false, ◌||◌, bytes_eq, codes, Some}
use Rattle.es_tree.specs.Words.{Text}
use Rattle.es_tree.specs.Fresh.{is_among}
use Rattle.es_tree.specs.Names.{first_text, flag_at, names_if, names_in_fields, names_in_trees, own_name, is_name_place}
use Rattle.es_tree.specs.Parens.{without_parens}
use Rattle.es_tree.specs.Scopes.{is_written, target_names, writes}
use Rattle.es_tree.specs.Tree.{Tree, node, Label, Fields, done, ◌then◌, one, many, Trees, empty, ◌before◌, trees, kind_of}
use Rattle.es_tree.specs.Walks.{any_node, any_in_fields, any_in_trees}
use Rattle.es_tree.specs.declared.ast_type.AstType.{AstType}
use Rattle.es_tree.specs.declared.ast_type.AstType.TheVariants.{AssignmentExpression, BinaryExpression, CallExpression, ChainExpression, Identifier, LogicalExpression, MemberExpression, ParenthesizedExpression, UnaryExpression}
use Rattle.es_runs.specs.Alike.{Need}
use Rattle.es_runs.specs.OpenSteps.{Whole}
use Rattle.es_runs.specs.OptionalChaining.{member_at}
use Rattle.es_runs.specs.Rules.{binary_node, logical_node, null_node, void_zero_node}
use Rattle.es_runs.specs.Runs.{made, identifier}
use Rattle.es_runs.proofs.OptionalChainingFacts.{ChainPassesOn}
use Rattle.es_runs.proofs.CoreRows.{core_rule}
use Rattle.es_runs.proofs.Declarations.{is_name}
use Rattle.es_runs.proofs.Kept.{Without, among_both}
use Rattle.es_runs.proofs.Named.{or_both, or_first, or_second, among_first, among_second}
use Rattle.es_runs.proofs.RowFacts.{is_operator_kind, is_row_kind, Each, below_parens, PassesOn}
use Rattle.es_runs.proofs.RowKeeps.{row_core, row_good}
use Rattle.es_runs.proofs.RowKinds.{is_left_kind, row_kind}
use Rattle.es_runs.proofs.Temporary.{bytes_eq-flip}
use Rattle.es_runs.proofs.Written.{one_of}

-- none of the names is y
pub others : (xs : List Text) (y : Text) → one_of xs y ≡ false → Each (λ x. bytes_eq x y ≡ false) xs
others [] y e = tt
others (x ∷ xs) y e = (bytes_eq-flip x y ∙ or_first (bytes_eq y x) (one_of xs y) e, others xs y (or_second (bytes_eq y x) (one_of xs y) e))

-- NAMES THAT STAND

abbrev names_each : List Tree → List Text
names_each [] = []
names_each (t ∷ ts) = names_if true t ++ names_each ts

module _ (y : Text) where
  abbrev Free : Tree → Type 0
  Free t = is_among (names_if true t) y ≡ false

  pub each_free : (ts : List Tree) → Each Free ts → is_among (names_each ts) y ≡ false
  each_free [] h = refl
  each_free (t ∷ ts) h = among_both (names_if true t) (names_each ts) y h.0 (each_free ts h.1)

  trees_free : (ts : List Tree) → Each Free ts → is_among (names_in_trees (trees ts)) y ≡ false
  trees_free [] h = refl
  trees_free (t ∷ ts) h = among_both (names_if true t) (names_in_trees (trees ts)) y h.0 (trees_free ts h.1)

  pub name_free : (x : Text) → bytes_eq x y ≡ false → Free (identifier x)
  name_free x e = or_both (bytes_eq x y) false e refl

  sides_free : (k : AstType) (m : Label) (l r : Tree) → is_operator_kind k ≡ true → Free (node k m (one l then (one r then done))) → is_among (names_if true l ++ (names_if true r ++ [])) y ≡ false
  sides_free LogicalExpression m l r e h = h
  sides_free BinaryExpression m l r e h = h
  sides_free AssignmentExpression m l r e h = h
  sides_free _ m l r e h = absurd (cc e)

  key_free : (l : Label) (o k : Tree) → l.flags ≡ true ∷ false ∷ [] → Free (node MemberExpression l (one o then (one k then done))) → Free k
  key_free l o k e h =
      let below : is_among (names_if (flag_at 0 l.flags) k) y ≡ false = among_first (names_if (flag_at 0 l.flags) k) [] y (among_second (names_if true o) (names_if (flag_at 0 l.flags) k ++ []) y h) in
      rw e at below

  -- of a call
  call_free : (q : Tree) (ts : Trees) → Free q → is_among (names_in_trees ts) y ≡ false → is_among (names_if true q ++ (names_in_trees ts ++ [])) y ≡ false
  call_free q ts h g = among_both (names_if true q) (names_in_trees ts ++ []) y h (among_both (names_in_trees ts) [] y g refl)

  arguments_free : (l : Label) (f : Tree) (ts : Trees) → Free (node CallExpression l (one f then (many ts then done))) → is_among (names_in_trees ts) y ≡ false
  arguments_free l f ts h = among_first (names_in_trees ts) [] y (among_second (names_if true f) (names_in_trees ts ++ []) y h)

  -- a step of a chain that keeps its key
  step_free : (l : Label) (computed optional : Bool) (o q p : Tree) → l.flags ≡ computed ∷ optional ∷ [] → Free (node MemberExpression l (one o then (one p then done))) → Free q → Free (member_at l computed q p)
  step_free l computed optional o q p e h g =
      let key : is_among (names_if (flag_at 0 l.flags) p ++ []) y ≡ false = among_second (names_if true o) (names_if (flag_at 0 l.flags) p ++ []) y h in
      among_both (names_if true q) (names_if computed p ++ []) y g (rw e at key)

  free_in_chains : ChainPassesOn Free (λ x. bytes_eq x y ≡ false)
  free_in_chains = record {
    inside = λ l t fs h. among_first (names_if true t) (names_in_fields (λ n. is_name_place ParenthesizedExpression l (suc n)) fs) y h;
    content = λ l t h. among_first (names_if true t) [] y h;
    operand = λ l t h. among_first (names_if true t) [] y h;
    object = λ l o p h. among_first (names_if true o) (names_if (flag_at 0 l.flags) p ++ []) y h;
    callee = λ l f ts h. among_first (names_if true f) (names_in_trees ts ++ []) y h;
    member = step_free;
    call = λ l f q ts h g. call_free q ts g (arguments_free l f ts h);
    call_with = λ l f q r ts h g k. call_free q (r before ts) g (among_both (names_if true r) (names_in_trees ts) y k (arguments_free l f ts h));
    name = name_free;
    takes = λ x e fine h. each_free (identifier x ∷ e ∷ []) (name_free x fine, (h, tt));
    static_member = λ c z h. each_free (c ∷ []) (h, tt);
    call_one = λ c r h g. call_free c (r before empty) h (among_both (names_if true r) [] y g refl);
    this = refl;
    null = refl;
    void_zero = refl;
    truth = refl;
    equals = λ l r h g. each_free (l ∷ r ∷ []) (h, (g, tt));
    loosely_equals = λ l r h g. each_free (l ∷ r ∷ []) (h, (g, tt));
    or = λ l r h g. each_free (l ∷ r ∷ []) (h, (g, tt));
    choice = λ m t a b h g k. each_free (t ∷ a ∷ b ∷ []) (h, (g, (k, tt)));
    deletes = λ e h. each_free (e ∷ []) (h, tt);
  }

  module _ (math : bytes_eq (codes "Math") y ≡ false) where
    free_passes_on : PassesOn Free (λ x. bytes_eq x y ≡ false)
    free_passes_on = record {
      inside = λ l t fs h. among_first (names_if true t) (names_in_fields (λ n. is_name_place ParenthesizedExpression l (suc n)) fs) y h;
      left = λ k m l r e h. among_first (names_if true l) (names_if true r ++ []) y (sides_free k m l r e h);
      right = λ k m l r e h. among_first (names_if true r) [] y (among_second (names_if true l) (names_if true r ++ []) y (sides_free k m l r e h));
      object = λ l o k h. among_first (names_if true o) (names_if (flag_at 0 l.flags) k ++ []) y h;
      key = key_free;
      logical = λ m l r g h. each_free (l ∷ r ∷ []) (g, (h, tt));
      tests = λ m begin again r b a h.
          let first = each_free (begin ∷ null_node ∷ []) (b, (refl, tt)) in
          let second = each_free (again ∷ void_zero_node ∷ []) (a, (refl, tt)) in
          let test = each_free (binary_node (codes "!==") begin null_node ∷ binary_node (codes "!==") again void_zero_node ∷ []) (first, (second, tt)) in
          each_free (logical_node (codes "&&") (binary_node (codes "!==") begin null_node) (binary_node (codes "!==") again void_zero_node) ∷ again ∷ r ∷ []) (test, (a, (h, tt)));
      name = name_free;
      takes = λ x e fine h. each_free (identifier x ∷ e ∷ []) (name_free x fine, (h, tt));
      to_name = λ m n l t r q h e g. each_free (node Identifier l done ∷ q ∷ []) (subst Free e (below_parens Free (λ k u fs d. among_first (names_if true u) (names_in_fields (λ n. is_name_place ParenthesizedExpression k (suc n)) fs) y d) t (among_first (names_if true t) (names_if true r ++ []) y h)), (g, tt));
      to_member = λ n l o k q h g. each_free (node MemberExpression l (one o then (one k then done)) ∷ q ∷ []) (h, (g, tt));
      static_member = λ k o h. each_free (o ∷ []) (h, tt);
      private_member = λ l k o q h g. each_free (q ∷ []) (g, tt);
      computed_member = λ o k h g. each_free (o ∷ k ∷ []) (h, (g, tt));
      string = λ x. refl;
      power = λ m l r g h. or_both (bytes_eq (codes "Math") y) (is_among (names_each (l ∷ r ∷ []) ++ []) y) math (among_both (names_each (l ∷ r ∷ [])) [] y (each_free (l ∷ r ∷ []) (g, (h, tt))) refl);
      sequence = λ m fs h. among_both (names_in_trees (trees fs)) [] y (trees_free fs h) refl;
    }

-- a node that is no name by itself has the same names whether it counts or not
own_none : (counts : Bool) (k : AstType) (l : Label) → is_name k ≡ false → own_name counts k l ≡ []
own_none true Identifier l e = absurd (cc e)
own_none true _ l e = refl
own_none false k l e = refl

pub same_names : (counts : Bool) (t : Tree) → is_name (kind_of t) ≡ false → names_if counts t ≡ names_if true t
same_names counts (node k l fs) e = rw (own_none counts k l e, own_none true k l e) refl

pub row_no_name : (k : AstType) → is_row_kind k ≡ true → is_name k ≡ false
row_no_name Identifier e = absurd (cc e)
row_no_name _ e = refl

pub left_no_name : (k : AstType) → is_left_kind k ≡ true → is_name k ≡ false
left_no_name Identifier e = absurd (cc e)
left_no_name _ e = refl

pub row_without : (no_all : Bool) (w : Whole) {xs : List Text} (y : Text) → one_of xs y ≡ false → bytes_eq (codes "Math") y ≡ false → {n : Need} {a b : Tree} (counts : Bool) → core_rule no_all w xs n a b → Without y counts a → Without y counts b
row_without no_all w {xs} y other math {n} {a} {b} counts r h =
    let kinds = row_kind no_all w r in
    let free_before : is_among (names_if true a) y ≡ false = rw (same_names counts a (row_no_name (kind_of a) kinds.acted)) at h.free in
    record {
      core = row_core no_all w r h.core;
      free = rw (same_names counts b (left_no_name (kind_of b) kinds.left)) (row_good (Free y) (λ x. bytes_eq x y ≡ false) (free_passes_on y math) (free_in_chains y) no_all w r (others xs y other) free_before);
    }

-- NAMES THAT ARE WRITTEN

-- what is written through parentheses is what is written without them
pub target_names-stripped : (t : Tree) → target_names (without_parens t) ≡ target_names t
target_names-stripped t = below_parens (λ s. target_names s ≡ target_names t) (λ l u fs h. h) t refl

module _ (y : Text) where
  abbrev Unwritten : Tree → Type 0
  Unwritten t = is_written y t ≡ false

  abbrev any_each : List Tree → Bool
  any_each [] = false
  any_each (t ∷ ts) = any_node (writes y) t || any_each ts

  pub each_unwritten : (ts : List Tree) → Each Unwritten ts → any_each ts ≡ false
  each_unwritten [] h = refl
  each_unwritten (t ∷ ts) h = or_both (any_node (writes y) t) (any_each ts) h.0 (each_unwritten ts h.1)

  trees_unwritten : (ts : List Tree) → Each Unwritten ts → any_in_trees (writes y) (trees ts) ≡ false
  trees_unwritten [] h = refl
  trees_unwritten (t ∷ ts) h = or_both (any_node (writes y) t) (any_in_trees (writes y) (trees ts)) h.0 (trees_unwritten ts h.1)

  pub first_unwritten : (k : AstType) (l : Label) (t : Tree) (fs : Fields) → Unwritten (node k l (one t then fs)) → Unwritten t
  first_unwritten k l t fs h = or_first (any_node (writes y) t) (any_in_fields (writes y) fs) (or_second (writes y k l (one t then fs)) (any_node (writes y) t || any_in_fields (writes y) fs) h)

  pub second_unwritten : (k : AstType) (l : Label) (t u : Tree) → Unwritten (node k l (one t then (one u then done))) → Unwritten u
  second_unwritten k l t u h =
      or_first (any_node (writes y) u) false (or_second (any_node (writes y) t) (any_node (writes y) u || false) (or_second (writes y k l (one t then (one u then done))) (any_node (writes y) t || (any_node (writes y) u || false)) h))

  -- a node that writes to a target, from what is written there and its parts
  pub assigns : (n : Label) (t q : Tree) → is_among (target_names t) y ≡ false → Unwritten t → Unwritten q → Unwritten (node AssignmentExpression n (one t then (one q then done)))
  assigns n t q e h g = or_both (is_among (target_names t) y) (any_each (t ∷ q ∷ [])) e (each_unwritten (t ∷ q ∷ []) (h, (g, tt)))

  unwritten_passes_on : PassesOn Unwritten (λ x. bytes_eq x y ≡ false)
  unwritten_passes_on = record {
    inside = λ l t fs h. first_unwritten ParenthesizedExpression l t fs h;
    left = λ k m l r e h. first_unwritten k m l (one r then done) h;
    right = λ k m l r e h. second_unwritten k m l r h;
    object = λ l o k h. first_unwritten MemberExpression l o (one k then done) h;
    key = λ l o k e h. second_unwritten MemberExpression l o k h;
    logical = λ m l r g h. each_unwritten (l ∷ r ∷ []) (g, (h, tt));
    tests = λ m begin again r b a h.
        let first = each_unwritten (begin ∷ null_node ∷ []) (b, (refl, tt)) in
        let second = each_unwritten (again ∷ void_zero_node ∷ []) (a, (refl, tt)) in
        let test = each_unwritten (binary_node (codes "!==") begin null_node ∷ binary_node (codes "!==") again void_zero_node ∷ []) (first, (second, tt)) in
        each_unwritten (logical_node (codes "&&") (binary_node (codes "!==") begin null_node) (binary_node (codes "!==") again void_zero_node) ∷ again ∷ r ∷ []) (test, (a, (h, tt)));
    name = λ x fine. refl;
    takes = λ x e fine h. assigns (made (Some (codes "=") ∷ []) []) (identifier x) e (or_both (bytes_eq x y) false fine refl) refl h;
    to_name = λ m n l t r q h e g.
        let target : is_among (target_names t) y ≡ false = or_first (is_among (target_names t) y) (any_each (t ∷ r ∷ [])) h in
        let names : first_text l.texts ∷ [] ≡ target_names t = ap target_names (sym e) ∙ target_names-stripped t in
        assigns n (node Identifier l done) q (subst (λ ns. is_among ns y ≡ false) (sym names) target) refl g;
    to_member = λ n l o k q h g. assigns n (node MemberExpression l (one o then (one k then done))) q refl h g;
    static_member = λ k o h. each_unwritten (o ∷ node Identifier k done ∷ []) (h, (refl, tt));
    private_member = λ l k o q h g. each_unwritten (q ∷ []) (g, tt);
    computed_member = λ o k h g. each_unwritten (o ∷ k ∷ []) (h, (g, tt));
    string = λ x. refl;
    power = λ m l r g h. or_both (any_each (l ∷ r ∷ [])) false (each_unwritten (l ∷ r ∷ []) (g, (h, tt))) refl;
    sequence = λ m fs h. or_both (any_in_trees (writes y) (trees fs)) false (trees_unwritten fs h) refl;
  }

  call_unwritten : (q : Tree) (ts : Trees) → Unwritten q → any_in_trees (writes y) ts ≡ false → (any_node (writes y) q || (any_in_trees (writes y) ts || false)) ≡ false
  call_unwritten q ts h g = or_both (any_node (writes y) q) (any_in_trees (writes y) ts || false) h (or_both (any_in_trees (writes y) ts) false g refl)

  arguments_unwritten : (l : Label) (f : Tree) (ts : Trees) → Unwritten (node CallExpression l (one f then (many ts then done))) → any_in_trees (writes y) ts ≡ false
  arguments_unwritten l f ts h = or_first (any_in_trees (writes y) ts) false (or_second (any_node (writes y) f) (any_in_trees (writes y) ts || false) h)

  unwritten_in_chains : ChainPassesOn Unwritten (λ x. bytes_eq x y ≡ false)
  unwritten_in_chains = record {
    inside = λ l t fs h. first_unwritten ParenthesizedExpression l t fs h;
    content = λ l t h. first_unwritten ChainExpression l t done h;
    operand = λ l t h. first_unwritten UnaryExpression l t done h;
    object = λ l o p h. first_unwritten MemberExpression l o (one p then done) h;
    callee = λ l f ts h. first_unwritten CallExpression l f (many ts then done) h;
    member = λ l computed optional o q p e h g. each_unwritten (q ∷ p ∷ []) (g, (second_unwritten MemberExpression l o p h, tt));
    call = λ l f q ts h g. call_unwritten q ts g (arguments_unwritten l f ts h);
    call_with = λ l f q r ts h g k. call_unwritten q (r before ts) g (or_both (any_node (writes y) r) (any_in_trees (writes y) ts) k (arguments_unwritten l f ts h));
    name = λ x fine. refl;
    takes = λ x e fine h. assigns (made (Some (codes "=") ∷ []) []) (identifier x) e (or_both (bytes_eq x y) false fine refl) refl h;
    static_member = λ c z h. each_unwritten (c ∷ identifier z ∷ []) (h, (refl, tt));
    call_one = λ c r h g. call_unwritten c (r before empty) h (or_both (any_node (writes y) r) false g refl);
    this = refl;
    null = refl;
    void_zero = refl;
    truth = refl;
    equals = λ l r h g. each_unwritten (l ∷ r ∷ []) (h, (g, tt));
    loosely_equals = λ l r h g. each_unwritten (l ∷ r ∷ []) (h, (g, tt));
    or = λ l r h g. each_unwritten (l ∷ r ∷ []) (h, (g, tt));
    choice = λ m t a b h g k. each_unwritten (t ∷ a ∷ b ∷ []) (h, (g, (k, tt)));
    deletes = λ e h. each_unwritten (e ∷ []) (h, tt);
  }

pub row_unwritten : (no_all : Bool) (w : Whole) {xs : List Text} (y : Text) → one_of xs y ≡ false → {n : Need} {a b : Tree} → core_rule no_all w xs n a b → is_written y a ≡ false → is_written y b ≡ false
row_unwritten no_all w {xs} y other r h = row_good (Unwritten y) (λ x. bytes_eq x y ≡ false) (unwritten_passes_on y) (unwritten_in_chains y) no_all w r (others xs y other) h
