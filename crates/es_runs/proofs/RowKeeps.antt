-- What the rows of core programs keep of a node.
use Rattle.std.proofs.Common.{◌≡◌, refl, List, [], ◌∷◌, inl, inr}
use Rattle.std.proofs.lemmas.Bool.{and_from}
use Rattle.std.specs.Prelude.{Bool, true, false, ◌&&◌, codes, Some}
use Rattle.es_tree.specs.Words.{Text}
use Rattle.es_tree.specs.Core.{is_core_node}
use Rattle.es_tree.specs.Tree.{Tree, node, Label, Fields, done, ◌then◌, missing, one, many, statements, Trees, empty, ◌before◌, trees, kind_of}
use Rattle.es_tree.specs.Walks.{all_nodes, all_in_fields, all_in_trees}
use Rattle.es_tree.specs.declared.ast_type.AstType.{AstType}
use Rattle.es_tree.specs.declared.ast_type.AstType.TheVariants.{AssignmentExpression, BinaryExpression, BooleanLiteral, CallExpression, ChainExpression, ConditionalExpression, Identifier, LogicalExpression, MemberExpression, NullLiteral, NumericLiteral, ParenthesizedExpression, PrivateIdentifier, SequenceExpression, StringLiteral, ThisExpression, UnaryExpression}
use Rattle.es_runs.specs.Alike.{Need}
use Rattle.es_runs.specs.Duplication.{IsDuplicated}
use Rattle.es_runs.specs.Duplication.IsDuplicated.{read_again, by_temporary}
use Rattle.es_runs.specs.Exponentiation.{Holds, TargetTwice, ExponentiationRule, no_name}
use Rattle.es_runs.specs.Exponentiation.Holds.{where_it_is, in_temporary}
use Rattle.es_runs.specs.Exponentiation.TargetTwice.{bound_name, other_name, static_member, private_member, literal_key, other_key}
use Rattle.es_runs.specs.Exponentiation.ExponentiationRule.{power, power_assignment}
use Rattle.es_runs.specs.LogicalAssignment.{LogicalAssignmentRule}
use Rattle.es_runs.specs.LogicalAssignment.LogicalAssignmentRule.{to_name, to_static_member, to_computed_member}
use Rattle.es_runs.specs.OpenRules.{is_bound_in}
use Rattle.es_runs.specs.OpenRules.exponentiation_rule.{raises}
use Rattle.es_runs.specs.OpenSteps.{Whole}
use Rattle.es_runs.specs.Rules.{in_place_of, null_node, void_zero_node}
use Rattle.es_runs.specs.Runs.{made, identifier}
use Rattle.es_runs.specs.NullishCoalescing.{NullishCoalescingRule, also_all}
use Rattle.es_runs.specs.NullishCoalescing.NullishCoalescingRule.{with_temporary, reading_again}
use Rattle.es_runs.proofs.CoreRows.{core_rule, FreshInTurn}
use Rattle.es_runs.proofs.CoreRows.FreshInTurn.{no_more}
use Rattle.es_runs.proofs.OptionalChainingFacts.{ChainPassesOn, optional_chaining_fresh, optional_chaining_good}
use Rattle.es_runs.proofs.FreshNames.{fresh_both, fresh_one}
use Rattle.es_runs.proofs.Named.{and_left, and_right}
use Rattle.es_runs.proofs.OpenForm.{no_list, unlisted}
use Rattle.es_runs.proofs.RowFacts.{is_operator_kind, is_row_kind, Each, PassesOn, none_asked, assignment_good, nullish_coalescing_good, exponentiation_good}
use Rattle.es_runs.proofs.RowKinds.{row_kind}

-- FRESH NAMES

is_duplicated_fresh : (again in_use : Text → Bool) {xs : List Text} {e e1 e2 : Tree} → IsDuplicated again in_use xs e e1 e2 → FreshInTurn in_use xs
is_duplicated_fresh again in_use (read_again h) = no_more
is_duplicated_fresh again in_use (by_temporary {x = x} h fresh) = fresh_one in_use _ x fresh

assignment_fresh : (steady in_use : Text → Bool) {xs : List Text} {n : Need} {a b : Tree} → LogicalAssignmentRule steady in_use xs n a b → FreshInTurn in_use xs
assignment_fresh steady in_use (to_name texts op target) = no_more
assignment_fresh steady in_use (to_static_member texts op target flags object) = is_duplicated_fresh steady in_use object
assignment_fresh steady in_use (to_computed_member {xs = xs} texts op target flags object key) = fresh_both (is_duplicated_fresh steady in_use object) (is_duplicated_fresh steady (also_all xs in_use) key)

nullish_coalescing_fresh : (steady in_use : Text → Bool) {xs : List Text} {n : Need} {a b : Tree} → NullishCoalescingRule steady in_use xs n a b → FreshInTurn in_use xs
nullish_coalescing_fresh steady in_use (with_temporary {x = x} texts again fresh) = fresh_one in_use _ x fresh
nullish_coalescing_fresh steady in_use (reading_again texts again) = no_more

holds_fresh : (bound in_use : Text → Bool) {xs : List Text} {fs : List Tree} {o o' : Tree} → Holds bound in_use xs fs o o' → FreshInTurn in_use xs
holds_fresh bound in_use (where_it_is h) = no_more
holds_fresh bound in_use (in_temporary {x = x} stored fresh) = fresh_one in_use _ x fresh

target_fresh : (bound in_use : Text → Bool) {xs : List Text} {fs : List Tree} {t target read : Tree} → TargetTwice bound in_use xs fs t target read → FreshInTurn in_use xs
target_fresh bound in_use (bound_name h) = no_more
target_fresh bound in_use (other_name {x = x} unbound fresh) = fresh_one in_use _ x fresh
target_fresh bound in_use (static_member flags object) = holds_fresh bound in_use object
target_fresh bound in_use (private_member flags object) = holds_fresh bound in_use object
target_fresh bound in_use (literal_key flags key object) = holds_fresh bound in_use object
target_fresh bound in_use (other_key {xs = xs} {y = y} flags key object fresh) = fresh_both (holds_fresh no_name in_use object) (fresh_one (also_all xs in_use) _ y fresh)

exponentiation_fresh : (bound in_use : Text → Bool) {xs : List Text} {n : Need} {a b : Tree} → ExponentiationRule bound in_use xs n a b → FreshInTurn in_use xs
exponentiation_fresh bound in_use (power texts left right) = no_more
exponentiation_fresh bound in_use (power_assignment texts right target) = target_fresh bound in_use target

-- the names that a row takes are fresh, one after the other
pub row_fresh : (no_all : Bool) (w : Whole) {xs : List Text} {n : Need} {a b : Tree} → core_rule no_all w xs n a b → FreshInTurn w.in_use xs
row_fresh no_all w (inl r) = assignment_fresh w.steady w.in_use r
row_fresh no_all w (inr (inl (inl r))) = nullish_coalescing_fresh w.steady w.in_use r
row_fresh no_all w (inr (inl (inr r))) = optional_chaining_fresh no_all (is_bound_in w) w.steady w.in_use r
row_fresh no_all w (inr (inr (raises math r))) = exponentiation_fresh (is_bound_in w) w.in_use r

-- FACTS OF NODES

-- a fact that goes from a node to its parts, and from parts to what rows make of them, is kept by a row
pub row_good : (Good : Tree → Type 0) (Fine : Text → Type 0) → PassesOn Good Fine → ChainPassesOn Good Fine → (no_all : Bool) (w : Whole) {xs : List Text} {n : Need} {a b : Tree} → core_rule no_all w xs n a b → Each Fine xs → Good a → Good b
row_good Good Fine on chains no_all w (inl r) fine h = assignment_good Good Fine on w.steady w.in_use r fine h
row_good Good Fine on chains no_all w (inr (inl (inl r))) fine h = nullish_coalescing_good Good Fine on w.steady w.in_use r fine h
row_good Good Fine on chains no_all w (inr (inl (inr r))) fine h = optional_chaining_good Good Fine chains no_all (is_bound_in w) w.steady w.in_use r fine h
row_good Good Fine on chains no_all w (inr (inr (raises math r))) fine h = exponentiation_good Good Fine on (is_bound_in w) w.in_use r fine h

-- A TEST OF EVERY NODE

-- the kinds of nodes, beside assignments, that rows make with one child in each field
abbrev pub is_made_kind : AstType → Bool
is_made_kind Identifier = true
is_made_kind ThisExpression = true
is_made_kind NullLiteral = true
is_made_kind BooleanLiteral = true
is_made_kind NumericLiteral = true
is_made_kind StringLiteral = true
is_made_kind UnaryExpression = true
is_made_kind BinaryExpression = true
is_made_kind LogicalExpression = true
is_made_kind ConditionalExpression = true
is_made_kind MemberExpression = true
is_made_kind _ = false

-- the kinds of nodes whose parts a row uses
abbrev pub is_opened_kind : AstType → Bool
is_opened_kind LogicalExpression = true
is_opened_kind BinaryExpression = true
is_opened_kind AssignmentExpression = true
is_opened_kind UnaryExpression = true
is_opened_kind MemberExpression = true
is_opened_kind CallExpression = true
is_opened_kind ChainExpression = true
is_opened_kind ParenthesizedExpression = true
is_opened_kind _ = false

-- fields of one child each
abbrev pub one_each : List Tree → Fields
one_each [] = done
one_each (t ∷ ts) = one t then one_each ts

-- these kinds are parts
abbrev pub all_parts : (AstType → Bool) → List Tree → Bool
all_parts part [] = true
all_parts part (t ∷ ts) = part (kind_of t) && all_parts part ts

-- the one children of fields are parts
abbrev pub one_parts : (AstType → Bool) → Fields → Bool
one_parts part done = true
one_parts part (one t then fs) = part (kind_of t) && one_parts part fs
one_parts part (f then fs) = one_parts part fs

-- A test of nodes that holds of what rows make of parts, where a node that passes has parts of these kinds.
pub record Allows (test : AstType → Label → Fields → Bool) (part : AstType → Bool) : Type 0 where
  pub parts : (k : AstType) (l : Label) (fs : Fields) → is_opened_kind k ≡ true → test k l fs ≡ true → one_parts part fs ≡ true
  pub kinds : (k : AstType) → is_made_kind k ≡ true → part k ≡ true
  pub row_kinds : (k : AstType) → is_row_kind k ≡ true → part k ≡ true
  pub call_kind : part CallExpression ≡ true
  pub sequence_kind : part SequenceExpression ≡ true
  pub makes : (k : AstType) (l : Label) (ts : List Tree) → is_made_kind k ≡ true → all_parts part ts ≡ true → test k l (one_each ts) ≡ true
  pub assignment : (l : Label) (t q : Tree) → part (kind_of t) ≡ true → part (kind_of q) ≡ true → test AssignmentExpression l (one t then (one q then done)) ≡ true
  pub call : (l : Label) (c : Tree) (ts : List Tree) → part (kind_of c) ≡ true → all_parts part ts ≡ true → test CallExpression l (one c then (many (trees ts) then done)) ≡ true
  pub sequence : (l : Label) (ts : List Tree) → all_parts part ts ≡ true → test SequenceExpression l (many (trees ts) then done) ≡ true
  -- a call with another callee, and one with a further argument in front
  pub recalled : (l m : Label) (f q : Tree) (ts : Trees) → test CallExpression l (one f then (many ts then done)) ≡ true → part (kind_of q) ≡ true → test CallExpression m (one q then (many ts then done)) ≡ true
  pub received : (l m : Label) (f q r : Tree) (ts : Trees) → test CallExpression l (one f then (many ts then done)) ≡ true → part (kind_of q) ≡ true → part (kind_of r) ≡ true → test CallExpression m (one q then (many (r before ts) then done)) ≡ true

module _ (test : AstType → Label → Fields → Bool) (part : AstType → Bool) (allows : Allows test part) where
  -- a part whose nodes pass
  pub record Passing (t : Tree) : Type 0 where
    pub kind : part (kind_of t) ≡ true
    pub all : all_nodes test t ≡ true

  each_kind : (ts : List Tree) → Each Passing ts → all_parts part ts ≡ true
  each_kind [] h = refl
  each_kind (t ∷ ts) h = and_from (part (kind_of t)) (all_parts part ts) h.0.kind (each_kind ts h.1)

  each_field : (ts : List Tree) → Each Passing ts → all_in_fields test (one_each ts) ≡ true
  each_field [] h = refl
  each_field (t ∷ ts) h = and_from (all_nodes test t) (all_in_fields test (one_each ts)) h.0.all (each_field ts h.1)

  each_tree : (ts : List Tree) → Each Passing ts → all_in_trees test (trees ts) ≡ true
  each_tree [] h = refl
  each_tree (t ∷ ts) h = and_from (all_nodes test t) (all_in_trees test (trees ts)) h.0.all (each_tree ts h.1)

  pub makes_passing : (k : AstType) (l : Label) → is_made_kind k ≡ true → (ts : List Tree) → Each Passing ts → Passing (node k l (one_each ts))
  makes_passing k l e ts h = record {
    kind = allows.kinds k e;
    all = and_from (test k l (one_each ts)) (all_in_fields test (one_each ts)) (allows.makes k l ts e (each_kind ts h)) (each_field ts h);
  }

  pub assigns : (l : Label) (t q : Tree) → Passing t → Passing q → Passing (node AssignmentExpression l (one t then (one q then done)))
  assigns l t q h g = record {
    kind = allows.row_kinds AssignmentExpression refl;
    all = and_from (test AssignmentExpression l (one t then (one q then done))) (all_in_fields test (one_each (t ∷ q ∷ []))) (allows.assignment l t q h.kind g.kind) (each_field (t ∷ q ∷ []) (h, (g, tt)));
  }

  pub first_passing : (k : AstType) (l : Label) (t : Tree) (fs : Fields) → is_opened_kind k ≡ true → Passing (node k l (one t then fs)) → Passing t
  first_passing k l t fs e h = record {
    kind = and_left (part (kind_of t)) (one_parts part fs) (allows.parts k l (one t then fs) e (and_left (test k l (one t then fs)) (all_nodes test t && all_in_fields test fs) h.all));
    all = and_left (all_nodes test t) (all_in_fields test fs) (and_right (test k l (one t then fs)) (all_nodes test t && all_in_fields test fs) h.all);
  }

  pub second_passing : (k : AstType) (l : Label) (t u : Tree) (fs : Fields) → is_opened_kind k ≡ true → Passing (node k l (one t then (one u then fs))) → Passing u
  second_passing k l t u fs e h =
      let below : (all_nodes test t && (all_nodes test u && all_in_fields test fs)) ≡ true = and_right (test k l (one t then (one u then fs))) (all_nodes test t && (all_nodes test u && all_in_fields test fs)) h.all in
      let kinds : (part (kind_of t) && (part (kind_of u) && one_parts part fs)) ≡ true = allows.parts k l (one t then (one u then fs)) e (and_left (test k l (one t then (one u then fs))) (all_nodes test t && (all_nodes test u && all_in_fields test fs)) h.all) in
      record {
        kind = and_left (part (kind_of u)) (one_parts part fs) (and_right (part (kind_of t)) (part (kind_of u) && one_parts part fs) kinds);
        all = and_left (all_nodes test u) (all_in_fields test fs) (and_right (all_nodes test t) (all_nodes test u && all_in_fields test fs) below);
      }

  opened_operator : (k : AstType) → is_operator_kind k ≡ true → is_opened_kind k ≡ true
  opened_operator LogicalExpression e = refl
  opened_operator BinaryExpression e = refl
  opened_operator AssignmentExpression e = refl
  opened_operator _ e = absurd (cc e)

  pub named : (x : Text) → Passing (identifier x)
  named x = makes_passing Identifier _ refl [] tt

  pub null_passing : Passing null_node
  null_passing = makes_passing NullLiteral _ refl [] tt

  pub zero_passing : Passing void_zero_node
  zero_passing = makes_passing UnaryExpression _ refl (node NumericLiteral _ done ∷ []) (makes_passing NumericLiteral _ refl [] tt, tt)

  test_passes_on : PassesOn Passing (λ x. Unit {0})
  test_passes_on = record {
    inside = λ l t fs h. first_passing ParenthesizedExpression l t fs refl h;
    left = λ k m l r e h. first_passing k m l (one r then done) (opened_operator k e) h;
    right = λ k m l r e h. second_passing k m l r done (opened_operator k e) h;
    object = λ l o k h. first_passing MemberExpression l o (one k then done) refl h;
    key = λ l o k e h. second_passing MemberExpression l o k done refl h;
    logical = λ m l r g h. makes_passing LogicalExpression m refl (l ∷ r ∷ []) (g, (h, tt));
    tests = λ m begin again r b a h.
        makes_passing ConditionalExpression (in_place_of m) refl (_ ∷ again ∷ r ∷ [])
        (makes_passing LogicalExpression _ refl (_ ∷ _ ∷ []) (makes_passing BinaryExpression _ refl (begin ∷ null_node ∷ []) (b, (null_passing, tt)), (makes_passing BinaryExpression _ refl (again ∷ void_zero_node ∷ []) (a, (zero_passing, tt)), tt)), (a, (h, tt)));
    name = λ x fine. named x;
    takes = λ x e fine h. assigns (made (Some (codes "=") ∷ []) []) (identifier x) e (named x) h;
    to_name = λ m n l t r q h e g. assigns n (node Identifier l done) q (makes_passing Identifier l refl [] tt) g;
    to_member = λ n l o k q h g. assigns n (node MemberExpression l (one o then (one k then done))) q h g;
    static_member = λ k o h. makes_passing MemberExpression _ refl (o ∷ node Identifier k done ∷ []) (h, (makes_passing Identifier k refl [] tt, tt));
    private_member = λ l k o q h g. makes_passing MemberExpression _ refl (q ∷ node PrivateIdentifier k done ∷ []) (g, (second_passing MemberExpression l o (node PrivateIdentifier k done) done refl h, tt));
    computed_member = λ o k h g. makes_passing MemberExpression _ refl (o ∷ k ∷ []) (h, (g, tt));
    string = λ x. makes_passing StringLiteral _ refl [] tt;
    power = λ m l r g h.
        let callee = makes_passing MemberExpression (made [] (false ∷ false ∷ [])) refl (identifier (codes "Math") ∷ identifier (codes "pow") ∷ []) (named (codes "Math"), (named (codes "pow"), tt)) in
        record { kind = allows.call_kind; all = and_from (test CallExpression _ _) _ (allows.call _ _ (l ∷ r ∷ []) callee.kind (each_kind (l ∷ r ∷ []) (g, (h, tt)))) (and_from _ _ callee.all (and_from _ _ (each_tree (l ∷ r ∷ []) (g, (h, tt))) refl)) };
    sequence = λ m fs h. record { kind = allows.sequence_kind; all = and_from (test SequenceExpression m (many (trees fs) then done)) (all_in_trees test (trees fs) && true) (allows.sequence m fs (each_kind fs h)) (and_from (all_in_trees test (trees fs)) true (each_tree fs h) refl) };
  }

  -- a call whose arguments pass
  arguments_pass : (l : Label) (f : Tree) (ts : Trees) → all_nodes test (node CallExpression l (one f then (many ts then done))) ≡ true → all_in_trees test ts ≡ true
  arguments_pass l f ts h = and_left (all_in_trees test ts) true (and_right (all_nodes test f) (all_in_trees test ts && true) (and_right (test CallExpression l (one f then (many ts then done))) (all_nodes test f && (all_in_trees test ts && true)) h))

  call_passes : (l : Label) (q : Tree) (ts : Trees) → test CallExpression l (one q then (many ts then done)) ≡ true → Passing q → all_in_trees test ts ≡ true → Passing (node CallExpression l (one q then (many ts then done)))
  call_passes l q ts own h g = record {
    kind = allows.call_kind;
    all = and_from (test CallExpression l (one q then (many ts then done))) (all_nodes test q && (all_in_trees test ts && true)) own (and_from (all_nodes test q) (all_in_trees test ts && true) h.all (and_from (all_in_trees test ts) true g refl));
  }

  own_passes : (l : Label) (f : Tree) (ts : Trees) → all_nodes test (node CallExpression l (one f then (many ts then done))) ≡ true → test CallExpression l (one f then (many ts then done)) ≡ true
  own_passes l f ts h = and_left (test CallExpression l (one f then (many ts then done))) (all_nodes test f && (all_in_trees test ts && true)) h

  chain_test_passes_on : ChainPassesOn Passing (λ x. Unit {0})
  chain_test_passes_on = record {
    inside = λ l t fs h. first_passing ParenthesizedExpression l t fs refl h;
    content = λ l t h. first_passing ChainExpression l t done refl h;
    operand = λ l t h. first_passing UnaryExpression l t done refl h;
    object = λ l o p h. first_passing MemberExpression l o (one p then done) refl h;
    callee = λ l f ts h. first_passing CallExpression l f (many ts then done) refl h;
    member = λ l computed optional o q p e h g. makes_passing MemberExpression _ refl (q ∷ p ∷ []) (g, (second_passing MemberExpression l o p done refl h, tt));
    call = λ l f q ts h g. call_passes _ q ts (allows.recalled l _ f q ts (own_passes l f ts h.all) g.kind) g (arguments_pass l f ts h.all);
    call_with = λ l f q r ts h g k. call_passes _ q (r before ts) (allows.received l _ f q r ts (own_passes l f ts h.all) g.kind k.kind) g (and_from (all_nodes test r) (all_in_trees test ts) k.all (arguments_pass l f ts h.all));
    name = λ x fine. named x;
    takes = λ x e fine h. assigns (made (Some (codes "=") ∷ []) []) (identifier x) e (named x) h;
    static_member = λ c y h. makes_passing MemberExpression _ refl (c ∷ identifier y ∷ []) (h, (named y, tt));
    call_one = λ c r h g. call_passes _ c (r before empty) (allows.call _ c (r ∷ []) h.kind (and_from (part (kind_of r)) true g.kind refl)) h (and_from (all_nodes test r) true g.all refl);
    this = makes_passing ThisExpression _ refl [] tt;
    null = null_passing;
    void_zero = zero_passing;
    truth = makes_passing BooleanLiteral _ refl [] tt;
    equals = λ l r h g. makes_passing BinaryExpression _ refl (l ∷ r ∷ []) (h, (g, tt));
    loosely_equals = λ l r h g. makes_passing BinaryExpression _ refl (l ∷ r ∷ []) (h, (g, tt));
    or = λ l r h g. makes_passing LogicalExpression _ refl (l ∷ r ∷ []) (h, (g, tt));
    choice = λ m t a b h g k. makes_passing ConditionalExpression (in_place_of m) refl (t ∷ a ∷ b ∷ []) (h, (g, (k, tt)));
    deletes = λ e h. makes_passing UnaryExpression _ refl (e ∷ []) (h, tt);
  }

  pub row_passes : (no_all : Bool) (w : Whole) {xs : List Text} {n : Need} {a b : Tree} → core_rule no_all w xs n a b → all_nodes test a ≡ true → all_nodes test b ≡ true
  row_passes no_all w {xs} {n} {a} {b} r h =
      let found : Passing b = row_good Passing (λ x. Unit {0}) test_passes_on chain_test_passes_on no_all w r (none_asked xs) (record { kind = allows.row_kinds (kind_of a) (row_kind no_all w r).acted; all = h }) in
      found.all

-- CORE NODES, AND STATEMENT LISTS

abbrev pub any_kind : AstType → Bool
any_kind k = true

any_parts : (fs : Fields) → one_parts any_kind fs ≡ true
any_parts done = refl
any_parts (one t then fs) = any_parts fs
any_parts (missing then fs) = any_parts fs
any_parts (many ts then fs) = any_parts fs
any_parts (statements ts then fs) = any_parts fs

made_core : (k : AstType) (l : Label) (fs : Fields) → is_made_kind k ≡ true → is_core_node k l fs ≡ true
made_core Identifier l fs e = refl
made_core ThisExpression l fs e = refl
made_core NullLiteral l fs e = refl
made_core BooleanLiteral l fs e = refl
made_core NumericLiteral l fs e = refl
made_core StringLiteral l fs e = refl
made_core UnaryExpression l fs e = refl
made_core BinaryExpression l fs e = refl
made_core LogicalExpression l fs e = refl
made_core ConditionalExpression l fs e = refl
made_core MemberExpression l fs e = refl
made_core _ l fs e = absurd (cc e)

pub core_allows : Allows is_core_node any_kind
core_allows = record {
  parts = λ k l fs e h. any_parts fs;
  kinds = λ k e. refl;
  row_kinds = λ k e. refl;
  call_kind = refl;
  sequence_kind = refl;
  makes = λ k l ts e h. made_core k l (one_each ts) e;
  assignment = λ l t q h g. refl;
  call = λ l c ts h g. refl;
  sequence = λ l ts h. refl;
  recalled = λ l m f q ts h g. refl;
  received = λ l m f q r ts h g k. refl;
}

pub row_core : (no_all : Bool) (w : Whole) {xs : List Text} {n : Need} {a b : Tree} → core_rule no_all w xs n a b → all_nodes is_core_node a ≡ true → all_nodes is_core_node b ≡ true
row_core = row_passes is_core_node any_kind core_allows

no_list-one_each : (ts : List Tree) → no_list (one_each ts) ≡ true
no_list-one_each [] = refl
no_list-one_each (t ∷ ts) = no_list-one_each ts

pub unlisted_allows : Allows unlisted any_kind
unlisted_allows = record {
  parts = λ k l fs e h. any_parts fs;
  kinds = λ k e. refl;
  row_kinds = λ k e. refl;
  call_kind = refl;
  sequence_kind = refl;
  makes = λ k l ts e h. no_list-one_each ts;
  assignment = λ l t q h g. refl;
  call = λ l c ts h g. refl;
  sequence = λ l ts h. refl;
  recalled = λ l m f q ts h g. refl;
  received = λ l m f q r ts h g k. refl;
}

pub row_unlisted : (no_all : Bool) (w : Whole) {xs : List Text} {n : Need} {a b : Tree} → core_rule no_all w xs n a b → all_nodes unlisted a ≡ true → all_nodes unlisted b ≡ true
row_unlisted = row_passes unlisted any_kind unlisted_allows
