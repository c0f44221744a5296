-- What the rules of places ask of a node and of what stands in it, where parts of calls give way to names: the same as before.
use Rattle.std.proofs.Common.{◌≡◌, ℕ, zero, suc, refl, ap, sym}
use Rattle.std.specs.Prelude.{◌||◌, not, false, is_some, Option, Some, None}
use Rattle.es_tree.specs.Ancestors.{has_loop_body, is_labeled_loop}
use Rattle.es_tree.specs.Children.{child_at, only_child}
use Rattle.es_tree.specs.CoreStaticRules.{has_optional, has_optional_in, is_kept, is_kept_within, is_name, is_optional, is_private_member, is_private_name}
use Rattle.es_tree.specs.HasForm.{same_type}
use Rattle.es_tree.specs.Parens.{without_parens}
use Rattle.es_tree.specs.Scopes.{name_in, own_text}
use Rattle.es_tree.specs.StaticRules.{is_empty, is_lone_parameter, parameters_in}
use Rattle.es_tree.specs.Tree.{Tree, Fields, Field, Trees, kind_of}
use Rattle.es_tree.specs.declared.ast_type.AstType.TheVariants.{CallExpression, ChainExpression, FunctionExpression, Identifier, LabeledStatement, MemberExpression, ParenthesizedExpression, PrivateIdentifier, RestElement}
use Rattle.es_resolution.specs.Declarations.{Bound}
use Rattle.es_helper_calls.proofs.CalledTrees.{Calls, CallsAll, CallsBy, CallsIn}
use Rattle.es_helper_calls.proofs.CalledTrees.Calls.{becomes}
use Rattle.es_helper_calls.proofs.CalledTrees.CallsAll.{next, none}
use Rattle.es_helper_calls.proofs.CalledTrees.CallsBy.{at_many, at_none, at_one, at_statements}
use Rattle.es_helper_calls.proofs.CalledTrees.CallsHere.{calls, lists, passes, stays}
use Rattle.es_helper_calls.proofs.CalledTrees.CallsIn.{ends, goes}
use Rattle.es_helper_calls.proofs.Callees.{IsCallee, callee-shape}
use Rattle.es_helper_calls.proofs.Callees.IsCallee.{a_member}

-- a spine through the callee has no optional mark
callee-plain : (f : Tree) → IsCallee f → has_optional f ≡ false
callee-plain f (a_member e) = rw e refl

module _ (P : Tree → Bound → Type 0) where
  -- KINDS AND TEXTS

  pub kind-now : {t u : Tree} → Calls P t u → kind_of u ≡ kind_of t
  kind-now (becomes h) = refl

  pub text-now : {t u : Tree} → Calls P t u → own_text u ≡ own_text t
  text-now (becomes h) = refl

  pub name-now : {fs gs : Fields} → CallsIn P fs gs → name_in gs ≡ name_in fs
  name-now (goes (at_one k) h) = text-now k
  name-now _ = refl

  pub parens-now : {t u : Tree} → Calls P t u → Calls P (without_parens t) (without_parens u)
  parens-now (becomes {k = ParenthesizedExpression} (stays (goes (at_one k) h))) = parens-now k
  parens-now (becomes {k = ParenthesizedExpression} (stays ends)) = becomes (stays ends)
  parens-now (becomes {k = ParenthesizedExpression} (stays (goes at_none h))) = becomes (stays (goes at_none h))
  parens-now (becomes {k = ParenthesizedExpression} (stays (goes (at_many k) h))) = becomes (stays (goes (at_many k) h))
  parens-now (becomes {k = ParenthesizedExpression} (stays (goes (at_statements k) h))) = becomes (stays (goes (at_statements k) h))
  parens-now (becomes h) = becomes h

  pub inner-kind-now : {t u : Tree} → Calls P t u → kind_of (without_parens u) ≡ kind_of (without_parens t)
  inner-kind-now h = kind-now (parens-now h)

  -- CHILDREN

  data CallsChild : Option Tree → Option Tree → Type 0 where
    no_child : CallsChild None None
    a_child : {t u : Tree} → Calls P t u → CallsChild (Some t) (Some u)

  only-now : {f g : Field} → CallsBy P f g → CallsChild (only_child f) (only_child g)
  only-now at_none = no_child
  only-now (at_one k) = a_child k
  only-now (at_many k) = no_child
  only-now (at_statements k) = no_child

  child-now : (n : ℕ) {fs gs : Fields} → CallsIn P fs gs → CallsChild (child_at n fs) (child_at n gs)
  child-now n ends = no_child
  child-now zero (goes k h) = only-now k
  child-now (suc n) (goes k h) = child-now n h

  some-same : {o p : Option Tree} → CallsChild o p → is_some p ≡ is_some o
  some-same no_child = refl
  some-same (a_child k) = refl

  pub has-child-now : (n : ℕ) {fs gs : Fields} → CallsIn P fs gs → is_some (child_at n gs) ≡ is_some (child_at n fs)
  has-child-now n h = some-same (child-now n h)

  name-same : {o p : Option Tree} → CallsChild o p → is_name p ≡ is_name o
  name-same no_child = refl
  name-same (a_child (becomes {k = Identifier} h)) = refl
  name-same (a_child (becomes h)) = refl

  pub name-child-now : (n : ℕ) {fs gs : Fields} → CallsIn P fs gs → is_name (child_at n gs) ≡ is_name (child_at n fs)
  name-child-now n h = name-same (child-now n h)

  -- LABELS: whether a loop stands below them

  loop-now : {t u : Tree} → Calls P t u → is_labeled_loop u ≡ is_labeled_loop t
  loop-now (becomes {k = LabeledStatement} (stays (goes n (goes (at_one k) h)))) = loop-now k
  loop-now (becomes {k = LabeledStatement} (stays h)) = refl
  loop-now (becomes h) = refl

  pub loop-body-now : {fs gs : Fields} → CallsIn P fs gs → has_loop_body gs ≡ has_loop_body fs
  loop-body-now (goes n (goes (at_one k) h)) = loop-now k
  loop-body-now _ = refl

  -- CHAINS

  mutual
    optional-now : {t u : Tree} → Calls P t u → has_optional u ≡ has_optional t
    optional-now (becomes {k = MemberExpression} {l = l} (stays h)) = ap (λ b. is_optional MemberExpression l || b) (optional-in-now h)
    optional-now (becomes {k = CallExpression} {l = l} (stays h)) = ap (λ b. is_optional CallExpression l || b) (optional-in-now h)
    optional-now (becomes {k = CallExpression} {l = l} (calls {f = f} {h = x} b p mark it h)) = ap (λ b. is_optional CallExpression l || b) (sym (callee-plain f (callee-shape f x it)))
    optional-now (becomes {k = CallExpression} {l = l} (passes b p mark other it k h)) = ap (λ b. is_optional CallExpression l || b) (optional-now k)
    optional-now (becomes {k = CallExpression} {l = l} (lists b p texts k m)) = ap (λ b. is_optional CallExpression l || b) (optional-now k)
    optional-now (becomes h) = refl

    pub optional-in-now : {fs gs : Fields} → CallsIn P fs gs → has_optional_in gs ≡ has_optional_in fs
    optional-in-now (goes (at_one k) h) = optional-now k
    optional-in-now _ = refl

  -- WHAT IS DELETED

  private-same : {o p : Option Tree} → CallsChild o p → is_private_name p ≡ is_private_name o
  private-same no_child = refl
  private-same (a_child (becomes {k = PrivateIdentifier} h)) = refl
  private-same (a_child (becomes h)) = refl

  second-private-now : {fs gs : Fields} → CallsIn P fs gs → is_private_name (child_at 1 gs) ≡ is_private_name (child_at 1 fs)
  second-private-now h = private-same (child-now 1 h)

  member-same : {o p : Option Tree} → CallsChild o p → is_private_member p ≡ is_private_member o
  member-same no_child = refl
  member-same (a_child (becomes {k = MemberExpression} (stays h))) = second-private-now h
  member-same (a_child (becomes h)) = refl

  kept-now : {t u : Tree} → Calls P t u → is_kept u ≡ is_kept t
  kept-now (becomes {k = Identifier} h) = refl
  kept-now (becomes {k = MemberExpression} (stays h)) = second-private-now h
  kept-now (becomes {k = ChainExpression} (stays h)) = member-same (child-now 0 h)
  kept-now (becomes h) = refl

  within-same : {o p : Option Tree} → CallsChild o p → is_kept_within p ≡ is_kept_within o
  within-same no_child = refl
  within-same (a_child k) = kept-now (parens-now k)

  pub kept-child-now : (n : ℕ) {fs gs : Fields} → CallsIn P fs gs → is_kept_within (child_at n gs) ≡ is_kept_within (child_at n fs)
  kept-child-now n h = within-same (child-now n h)

  -- PARAMETERS of accessors

  parameters-now : {fs gs : Fields} → CallsIn P fs gs → CallsAll P (parameters_in fs) (parameters_in gs)
  parameters-now (goes key (goes (at_one (becomes {k = FunctionExpression} (stays (goes n (goes (at_many ps) h))))) hs)) = ps
  parameters-now _ = none

  empty-same : {ts us : Trees} → CallsAll P ts us → is_empty us ≡ is_empty ts
  empty-same none = refl
  empty-same (next k h) = refl

  lone-same : {ts us : Trees} → CallsAll P ts us → is_lone_parameter us ≡ is_lone_parameter ts
  lone-same none = refl
  lone-same (next k none) = ap (λ k. not (same_type k RestElement)) (kind-now k)
  lone-same (next k (next j h)) = refl

  pub no-parameter-now : {fs gs : Fields} → CallsIn P fs gs → is_empty (parameters_in gs) ≡ is_empty (parameters_in fs)
  no-parameter-now h = empty-same (parameters-now h)

  pub one-parameter-now : {fs gs : Fields} → CallsIn P fs gs → is_lone_parameter (parameters_in gs) ≡ is_lone_parameter (parameters_in fs)
  one-parameter-now h = lone-same (parameters-now h)
