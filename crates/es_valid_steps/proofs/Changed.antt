-- What a step leaves of a tree, as far as the nodes around see it, and that each of them keeps its rules: where arrows turn into functions,
-- and `this` into names, and where they don't.
use Rattle.std.proofs.Common.{◌≡◌, ℕ, zero, suc, refl, sym, ◌∙◌}
use Rattle.std.specs.Prelude.{Bool, true, false, ◌||◌, Option, Some, None, is_some}
use Rattle.es_tree.specs.Ancestors.{is_labeled_loop}
use Rattle.es_tree.specs.Children.{child_at, only_child}
use Rattle.es_tree.specs.CoreStaticRules.{has_optional, has_optional_in, is_kept, is_kept_within, is_name, is_optional, is_private_member, is_private_name, is_simple_target}
use Rattle.es_tree.specs.HasForm.{same_type}
use Rattle.es_tree.specs.Parens.{without_parens}
use Rattle.es_tree.specs.Scopes.{own_text}
use Rattle.es_tree.specs.Tree.{Tree, node, Label, Fields, done, ◌then◌, Field, missing, one, many, statements, Trees, empty, ◌before◌, kind_of}
use Rattle.es_tree.specs.declared.ast_type.AstType.{AstType}
use Rattle.es_tree.specs.declared.ast_type.AstType.TheVariants.{ArrowFunctionExpression, AssignmentExpression, AssignmentPattern, BinaryExpression, CallExpression, CatchClause, ChainExpression, ConditionalExpression, FunctionExpression, Identifier, LabeledStatement, LogicalExpression, MemberExpression, ObjectExpression, ParenthesizedExpression, PatternProperty, PrivateIdentifier, PropertyDefinition, RestElement, SequenceExpression, ThisExpression, UnaryExpression}
use Rattle.es_runs.proofs.RowKinds.{is_left_kind}
use Rattle.es_valid_steps.specs.ArrowNodes.{is_kind_within, is_this_within}
use Rattle.es_valid_steps.proofs.MadeNodes.{row-simple, is_acted}

-- kinds into whose fields no rule of another node looks
abbrev pub is_hidden : AstType → Bool
is_hidden ArrowFunctionExpression = true
is_hidden AssignmentPattern = true
is_hidden CatchClause = true
is_hidden PatternProperty = true
is_hidden PropertyDefinition = true
is_hidden _ = false

-- kinds of what steps replace
abbrev pub is_replaced : AstType → Bool
is_replaced ArrowFunctionExpression = true
is_replaced ThisExpression = true
is_replaced k = is_acted k

-- A node on which a row acts became one that rows leave, or fields changed; where arrows turn, one became a function, or `this` a name.
mutual
  pub data Changed (turns : Bool) : Tree → Tree → Type 0 where
    stays : {t : Tree} → Changed turns t t
    row : {t u : Tree} → is_acted (kind_of t) ≡ true → is_left_kind (kind_of u) ≡ true → Changed turns t u
    function : {l m : Label} {fs gs : Fields} → turns ≡ true → Changed turns (node ArrowFunctionExpression l fs) (node FunctionExpression m gs)
    named : {l m : Label} {fs gs : Fields} → turns ≡ true → Changed turns (node ThisExpression l fs) (node Identifier m gs)
    inside : {k : AstType} {l : Label} {fs gs : Fields} → ChangedFields turns k fs gs → Changed turns (node k l fs) (node k l gs)

  pub data ChangedFields (turns : Bool) : AstType → Fields → Fields → Type 0 where
    ends : {k : AstType} → ChangedFields turns k done done
    more : {k : AstType} {f g : Field} {fs gs : Fields} → ChangedField turns k f g → ChangedFields turns k fs gs → ChangedFields turns k (f then fs) (g then gs)

  pub data ChangedField (turns : Bool) : AstType → Field → Field → Type 0 where
    same_field : {k : AstType} {f : Field} → ChangedField turns k f f
    unseen : {k : AstType} {f g : Field} → is_hidden k ≡ true → ChangedField turns k f g
    child_changed : {k : AstType} {t u : Tree} → Changed turns t u → ChangedField turns k (one t) (one u)
    children_changed : {k : AstType} {ts us : Trees} → ChangedTrees turns ts us → ChangedField turns k (many ts) (many us)
    list_changed : {k : AstType} {ts us : Trees} → ChangedField turns k (statements ts) (statements us)

  pub data ChangedTrees (turns : Bool) : Trees → Trees → Type 0 where
    none : ChangedTrees turns empty empty
    some : {t u : Tree} {ts us : Trees} → Changed turns t u → ChangedTrees turns ts us → ChangedTrees turns (t before ts) (u before us)

pub same-fields : {turns : Bool} (k : AstType) (fs : Fields) → ChangedFields turns k fs fs
same-fields k done = ends
same-fields k (f then fs) = more same_field (same-fields k fs)

pub same-trees : {turns : Bool} (ts : Trees) → ChangedTrees turns ts ts
same-trees empty = none
same-trees (t before ts) = some stays (same-trees ts)

-- KINDS

-- the text of another kind than a row acts on is kept
acted-replaced : (k : AstType) → is_acted k ≡ true → is_replaced k ≡ true
acted-replaced ArrowFunctionExpression e = absurd (cc e)
acted-replaced ThisExpression e = absurd (cc e)
acted-replaced _ e = e

pub kept-text : {turns : Bool} (t u : Tree) → Changed turns t u → is_replaced (kind_of t) ≡ false → own_text u ≡ own_text t
kept-text t u stays e = refl
kept-text t u (row r l) e = absurd (let d = acted-replaced (kind_of t) r in cc (d, e))
kept-text t u (function v) e = absurd (cc e)
kept-text t u (named v) e = absurd (cc e)
kept-text t u (inside c) e = refl

-- neither what rows act on nor what they leave is of these kinds
module _ (q : AstType → Bool) (acted : (k : AstType) → is_acted k ≡ true → q k ≡ false) (left : (k : AstType) → is_left_kind k ≡ true → q k ≡ false) (of_arrow : q FunctionExpression ≡ q ArrowFunctionExpression) where
  -- where it was no `this` that may become a name, or that makes no difference
  pub kind-same : {turns : Bool} (t u : Tree) → Changed turns t u → (turns ≡ true → same_type (kind_of t) ThisExpression ≡ true → q Identifier ≡ q ThisExpression) → q (kind_of u) ≡ q (kind_of t)
  kind-same t u stays d = refl
  kind-same t u (row r l) d = left (kind_of u) l ∙ sym (acted (kind_of t) r)
  kind-same t u (function v) d = of_arrow
  kind-same t u (named v) d = d v refl
  kind-same t u (inside c) d = refl

name-acted : (k : AstType) → is_acted k ≡ true → same_type k Identifier ≡ false
name-acted Identifier e = absurd (cc e)
name-acted _ e = refl

name-left : (k : AstType) → is_left_kind k ≡ true → same_type k Identifier ≡ false
name-left Identifier e = absurd (cc e)
name-left _ e = refl

pub rest-acted : (k : AstType) → is_acted k ≡ true → same_type k RestElement ≡ false
rest-acted RestElement e = absurd (cc e)
rest-acted _ e = refl

pub rest-left : (k : AstType) → is_left_kind k ≡ true → same_type k RestElement ≡ false
rest-left RestElement e = absurd (cc e)
rest-left _ e = refl

-- FIELDS

-- the same field has one node
one-kept : {turns : Bool} (k : AstType) (f g : Field) → is_hidden k ≡ false → ChangedField turns k f g → is_some (only_child g) ≡ is_some (only_child f)
one-kept k f g e same_field = refl
one-kept k f g e (unseen h) = absurd (cc (e, h))
one-kept k f g e (child_changed c) = refl
one-kept k f g e (children_changed c) = refl
one-kept k f g e list_changed = refl

pub child-kept : {turns : Bool} (k : AstType) (n : ℕ) (fs gs : Fields) → is_hidden k ≡ false → ChangedFields turns k fs gs → is_some (child_at n gs) ≡ is_some (child_at n fs)
child-kept k n fs gs e ends = refl
child-kept k zero fs gs e (more {f = f} {g = g} c cs) = one-kept k f g e c
child-kept k (suc n) fs gs e (more {fs = fs'} {gs = gs'} c cs) = child-kept k n fs' gs' e cs

pub is-name : (t : Tree) → is_name (Some t) ≡ same_type (kind_of t) Identifier
is-name (node Identifier l fs) = refl
is-name (node _ l fs) = refl

-- a name in the first field, where no `this` stands there that may become one
pub first-name : {turns : Bool} (k : AstType) (fs gs : Fields) → is_hidden k ≡ false → (turns ≡ true → is_kind_within ThisExpression (child_at 0 fs) ≡ false) → ChangedFields turns k fs gs → is_name (child_at 0 gs) ≡ is_name (child_at 0 fs)
first-name {turns} k fs gs e d ends = refl
first-name {turns} k fs gs e d (more {f = f} {g = g} c cs) = at f g c d
  where
    at : (f g : Field) → ChangedField turns k f g → (turns ≡ true → is_kind_within ThisExpression (only_child f) ≡ false) → is_name (only_child g) ≡ is_name (only_child f)
    at f g same_field d = refl
    at f g (unseen h) d = absurd (cc (e, h))
    at f g (child_changed {t = t} {u = u} c) d = is-name u ∙ kind-same (λ j. same_type j Identifier) name-acted name-left refl t u c (λ v h. absurd (let x = d v in cc (h, x))) ∙ sym (is-name t)
    at f g (children_changed c) d = refl
    at f g list_changed d = refl

-- IN PARENTHESES what is inside is seen

abbrev holds_within : (Tree → Bool) → Option Tree → Bool
holds_within q None = false
holds_within q (Some t) = q (without_parens t)

pub in-parens : (q : Tree → Bool) (l : Label) (fs : Fields) → q (node ParenthesizedExpression l fs) ≡ false → q (without_parens (node ParenthesizedExpression l fs)) ≡ holds_within q (child_at 0 fs)
in-parens q l done e = e
in-parens q l (missing then fs) e = e
in-parens q l (one t then fs) e = refl
in-parens q l (many ts then fs) e = e
in-parens q l (statements ts then fs) e = e

pub kept-inside : (l : Label) (fs : Fields) → is_kept (without_parens (node ParenthesizedExpression l fs)) ≡ is_kept_within (child_at 0 fs)
kept-inside l fs = in-parens (λ t. is_kept t) l fs refl

pub this-inside : (l : Label) (fs : Fields) → is_this_within (Some (node ParenthesizedExpression l fs)) ≡ is_this_within (child_at 0 fs)
this-inside l fs = in-parens (λ t. same_type (kind_of t) ThisExpression) l fs refl

-- TARGETS: what is simple stays simple

abbrev is_simple : Tree → Bool
is_simple t = is_simple_target (kind_of t)

mutual
  pub simple-kept : {turns : Bool} (t u : Tree) → Changed turns t u → is_simple (without_parens t) ≡ true → is_simple (without_parens u) ≡ true
  simple-kept t u stays h = h
  simple-kept t u (row r l) h = absurd (cc (row-simple t r, h))
  simple-kept t u (function v) h = absurd (cc h)
  simple-kept t u (named v) h = absurd (cc h)
  simple-kept t u (inside {k = ParenthesizedExpression} {l = l} {fs = fs} {gs = gs} c) h = in-parens is_simple l gs refl ∙ simple-first fs gs c (sym (in-parens is_simple l fs refl) ∙ h)
  simple-kept t u (inside {k = _} c) h = h

  simple-first : {turns : Bool} (fs gs : Fields) → ChangedFields turns ParenthesizedExpression fs gs → holds_within is_simple (child_at 0 fs) ≡ true → holds_within is_simple (child_at 0 gs) ≡ true
  simple-first fs gs ends h = h
  simple-first fs gs (more {f = f} {g = g} c cs) h = simple-field f g c h

  simple-field : {turns : Bool} (f g : Field) → ChangedField turns ParenthesizedExpression f g → holds_within is_simple (only_child f) ≡ true → holds_within is_simple (only_child g) ≡ true
  simple-field f g same_field h = h
  simple-field f g (unseen e) h = absurd (cc e)
  simple-field f g (child_changed {t = t} {u = u} c) h = simple-kept t u c h
  simple-field f g (children_changed c) h = h
  simple-field f g list_changed h = h

-- CHAINS: a spine with a mark keeps one

row-optional : (t : Tree) → is_acted (kind_of t) ≡ true → has_optional t ≡ false
row-optional (node MemberExpression l fs) h = absurd (cc h)
row-optional (node CallExpression l fs) h = absurd (cc h)
row-optional (node _ l fs) h = refl

or-kept : (a b c : Bool) → (b ≡ true → c ≡ true) → (a || b) ≡ true → (a || c) ≡ true
or-kept true b c h e = refl
or-kept false b c h e = h e

mutual
  optional-kept : {turns : Bool} (t u : Tree) → Changed turns t u → has_optional t ≡ true → has_optional u ≡ true
  optional-kept t u stays h = h
  optional-kept t u (row r l) h = absurd (cc (row-optional t r, h))
  optional-kept t u (function v) h = absurd (cc h)
  optional-kept t u (named v) h = absurd (cc h)
  optional-kept t u (inside {k = MemberExpression} {l = l} {fs = fs} {gs = gs} c) h = or-kept (is_optional MemberExpression l) (has_optional_in fs) (has_optional_in gs) (optional-in MemberExpression fs gs refl c) h
  optional-kept t u (inside {k = CallExpression} {l = l} {fs = fs} {gs = gs} c) h = or-kept (is_optional CallExpression l) (has_optional_in fs) (has_optional_in gs) (optional-in CallExpression fs gs refl c) h
  optional-kept t u (inside {k = _} c) h = absurd (cc h)

  pub optional-in : {turns : Bool} (k : AstType) (fs gs : Fields) → is_hidden k ≡ false → ChangedFields turns k fs gs → has_optional_in fs ≡ true → has_optional_in gs ≡ true
  optional-in k fs gs e ends h = h
  optional-in k fs gs e (more {f = f} {g = g} c cs) h = optional-field k f g _ _ e c h

  optional-field : {turns : Bool} (k : AstType) (f g : Field) (fs gs : Fields) → is_hidden k ≡ false → ChangedField turns k f g → has_optional_in (f then fs) ≡ true → has_optional_in (g then gs) ≡ true
  optional-field k missing g fs gs e same_field h = absurd (cc h)
  optional-field k (one t) g fs gs e same_field h = h
  optional-field k (many ts) g fs gs e same_field h = absurd (cc h)
  optional-field k (statements ts) g fs gs e same_field h = absurd (cc h)
  optional-field k f g fs gs e (unseen d) h = absurd (cc (e, d))
  optional-field k f g fs gs e (child_changed {t = t} {u = u} c) h = optional-kept t u c h
  optional-field k f g fs gs e (children_changed c) h = absurd (cc h)
  optional-field k f g fs gs e list_changed h = absurd (cc h)

-- DELETE: what may be deleted may still be

private-acted : (k : AstType) → is_acted k ≡ true → same_type k PrivateIdentifier ≡ false
private-acted PrivateIdentifier e = absurd (cc e)
private-acted _ e = refl

private-left : (k : AstType) → is_left_kind k ≡ true → same_type k PrivateIdentifier ≡ false
private-left PrivateIdentifier e = absurd (cc e)
private-left _ e = refl

is-private : (t : Tree) → is_private_name (Some t) ≡ same_type (kind_of t) PrivateIdentifier
is-private (node PrivateIdentifier l fs) = refl
is-private (node _ l fs) = refl

-- a private name in the second field
second-private : {turns : Bool} (k : AstType) (fs gs : Fields) → is_hidden k ≡ false → ChangedFields turns k fs gs → is_private_name (child_at 1 gs) ≡ is_private_name (child_at 1 fs)
second-private k fs gs e ends = refl
second-private k fs gs e (more c ends) = refl
second-private {turns} k fs gs e (more c (more {f = f} {g = g} d cs)) = at f g d
  where
    at : (f g : Field) → ChangedField turns k f g → is_private_name (only_child g) ≡ is_private_name (only_child f)
    at f g same_field = refl
    at f g (unseen h) = absurd (cc (e, h))
    at f g (child_changed {t = t} {u = u} c) = is-private u ∙ kind-same (λ j. same_type j PrivateIdentifier) private-acted private-left refl t u c (λ v d. refl) ∙ sym (is-private t)
    at f g (children_changed c) = refl
    at f g list_changed = refl

left-member : (u : Tree) → is_left_kind (kind_of u) ≡ true → is_private_member (Some u) ≡ false
left-member (node MemberExpression l fs) h = absurd (cc h)
left-member (node _ l fs) h = refl

private-member : {turns : Bool} (t u : Tree) → Changed turns t u → is_private_member (Some t) ≡ false → is_private_member (Some u) ≡ false
private-member t u stays h = h
private-member t u (row r l) h = left-member u l
private-member t u (function v) h = refl
private-member t u (named v) h = refl
private-member t u (inside {k = MemberExpression} {fs = fs} {gs = gs} c) h = second-private MemberExpression fs gs refl c ∙ h
private-member t u (inside {k = _} c) h = refl

private-first : {turns : Bool} (k : AstType) (fs gs : Fields) → is_hidden k ≡ false → ChangedFields turns k fs gs → is_private_member (child_at 0 fs) ≡ false → is_private_member (child_at 0 gs) ≡ false
private-first k fs gs e ends h = h
private-first {turns} k fs gs e (more {f = f} {g = g} c cs) h = at f g c h
  where
    at : (f g : Field) → ChangedField turns k f g → is_private_member (only_child f) ≡ false → is_private_member (only_child g) ≡ false
    at f g same_field h = h
    at f g (unseen d) h = absurd (cc (e, d))
    at f g (child_changed {t = t} {u = u} c) h = private-member t u c h
    at f g (children_changed c) h = refl
    at f g list_changed h = refl

left-kept : (u : Tree) → is_left_kind (kind_of u) ≡ true → is_kept (without_parens u) ≡ false
left-kept (node Identifier l fs) h = absurd (cc h)
left-kept (node MemberExpression l fs) h = absurd (cc h)
left-kept (node ChainExpression l fs) h = absurd (cc h)
left-kept (node ParenthesizedExpression l fs) h = absurd (cc h)
left-kept (node _ l fs) h = refl

-- where it was no `this` that may become a name
mutual
  deleted-kept : {turns : Bool} (t u : Tree) → Changed turns t u → (turns ≡ true → is_this_within (Some t) ≡ false) → is_kept (without_parens t) ≡ false → is_kept (without_parens u) ≡ false
  deleted-kept t u stays d h = h
  deleted-kept t u (row r l) d h = left-kept u l
  deleted-kept t u (function v) d h = refl
  deleted-kept t u (named v) d h = absurd (let x = d v in cc x)
  deleted-kept t u (inside {k = ParenthesizedExpression} {l = l} {fs = fs} {gs = gs} c) d h = kept-inside l gs ∙ within-kept ParenthesizedExpression fs gs refl c (λ v. sym (this-inside l fs) ∙ d v) (sym (kept-inside l fs) ∙ h)
  deleted-kept t u (inside {k = Identifier} c) d h = h
  deleted-kept t u (inside {k = MemberExpression} {fs = fs} {gs = gs} c) d h = second-private MemberExpression fs gs refl c ∙ h
  deleted-kept t u (inside {k = ChainExpression} {fs = fs} {gs = gs} c) d h = private-first ChainExpression fs gs refl c h
  deleted-kept t u (inside {k = _} c) d h = refl

  pub within-kept : {turns : Bool} (k : AstType) (fs gs : Fields) → is_hidden k ≡ false → ChangedFields turns k fs gs → (turns ≡ true → is_this_within (child_at 0 fs) ≡ false) → is_kept_within (child_at 0 fs) ≡ false → is_kept_within (child_at 0 gs) ≡ false
  within-kept k fs gs e ends d h = h
  within-kept k fs gs e (more {f = f} {g = g} c cs) d h = within-field k f g e c d h

  within-field : {turns : Bool} (k : AstType) (f g : Field) → is_hidden k ≡ false → ChangedField turns k f g → (turns ≡ true → is_this_within (only_child f) ≡ false) → is_kept_within (only_child f) ≡ false → is_kept_within (only_child g) ≡ false
  within-field k f g e same_field d h = h
  within-field k f g e (unseen x) d h = absurd (cc (e, x))
  within-field k f g e (child_changed {t = t} {u = u} c) d h = deleted-kept t u c d h
  within-field k f g e (children_changed c) d h = h
  within-field k f g e list_changed d h = h

-- LOOPS BELOW LABELS

abbrev loop_first : Fields → Bool
loop_first (one t then fs) = is_labeled_loop t
loop_first _ = false

abbrev label_body : Fields → Bool
label_body done = false
label_body (n then fs) = loop_first fs

loop-inside : (l : Label) (fs : Fields) → is_labeled_loop (node LabeledStatement l fs) ≡ label_body fs
loop-inside l done = refl
loop-inside l (n then done) = refl
loop-inside l (n then (missing then fs)) = refl
loop-inside l (n then (one t then fs)) = refl
loop-inside l (n then (many ts then fs)) = refl
loop-inside l (n then (statements ts then fs)) = refl

row-loop : (t : Tree) → is_acted (kind_of t) ≡ true → is_labeled_loop t ≡ false
row-loop (node LabeledStatement l fs) h = absurd (cc h)
row-loop (node LogicalExpression l fs) h = refl
row-loop (node BinaryExpression l fs) h = refl
row-loop (node AssignmentExpression l fs) h = refl
row-loop (node ChainExpression l fs) h = refl
row-loop (node UnaryExpression l fs) h = refl
row-loop (node ObjectExpression l fs) h = refl
row-loop (node _ l fs) h = absurd (cc h)

left-loop : (t : Tree) → is_left_kind (kind_of t) ≡ true → is_labeled_loop t ≡ false
left-loop (node AssignmentExpression l fs) h = refl
left-loop (node CallExpression l fs) h = refl
left-loop (node ConditionalExpression l fs) h = refl
left-loop (node LogicalExpression l fs) h = refl
left-loop (node SequenceExpression l fs) h = refl
left-loop (node _ l fs) h = absurd (cc h)

mutual
  pub loop-same : {turns : Bool} (t u : Tree) → Changed turns t u → is_labeled_loop u ≡ is_labeled_loop t
  loop-same t u stays = refl
  loop-same t u (row r l) = left-loop u l ∙ sym (row-loop t r)
  loop-same t u (function v) = refl
  loop-same t u (named v) = refl
  loop-same t u (inside {k = LabeledStatement} {l = l} {fs = fs} {gs = gs} c) = loop-inside l gs ∙ body-same fs gs c ∙ sym (loop-inside l fs)
  loop-same t u (inside {k = _} c) = refl

  body-same : {turns : Bool} (fs gs : Fields) → ChangedFields turns LabeledStatement fs gs → label_body gs ≡ label_body fs
  body-same fs gs ends = refl
  body-same fs gs (more c ends) = refl
  body-same fs gs (more c (more {f = f} {g = g} d cs)) = body-field f g _ _ d

  body-field : {turns : Bool} (f g : Field) (fs gs : Fields) → ChangedField turns LabeledStatement f g → loop_first (g then gs) ≡ loop_first (f then fs)
  body-field missing g fs gs same_field = refl
  body-field (one t) g fs gs same_field = refl
  body-field (many ts) g fs gs same_field = refl
  body-field (statements ts) g fs gs same_field = refl
  body-field f g fs gs (unseen e) = absurd (cc e)
  body-field f g fs gs (child_changed {t = t} {u = u} c) = loop-same t u c
  body-field f g fs gs (children_changed c) = refl
  body-field f g fs gs list_changed = refl
