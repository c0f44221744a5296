-- Where such a call is followed, or a statement is put behind another, the nodes around see the same: a call of `super` and a sequence are no names, no
-- targets and no links of a chain with a mark.
use Rattle.std.proofs.Common.{◌≡◌, ◌==◌, ℕ, zero, suc, refl, sym, ap, ◌∙◌, List, [], ◌∷◌}
use Rattle.std.specs.Prelude.{Bool, true, false, not, ◌&&◌, ◌||◌, Option, Some, None, bytes_eq, codes, is_some, if◌then◌else◌}
use Rattle.std.specs.List.{list_any}
use Rattle.es_tree.specs.Ancestors.{Ancestor, ancestor, has_loop_body, is_derived, is_labeled_loop, is_script_top, labels, leads_by, own_labels, place_of, stands_in}
use Rattle.es_tree.specs.Children.{child_at}
use Rattle.es_tree.specs.CoreStaticRules.{has_optional, has_optional_in, is_bad_delete, is_bad_target, is_empty_chain, is_kept, is_kept_within, is_missing_init, is_name, is_optional, is_private_member, is_private_name, is_simple_target, is_stray_optional}
use Rattle.es_tree.specs.HasForm.{same_type}
use Rattle.es_tree.specs.Names.{first_text}
use Rattle.es_tree.specs.Parens.{without_parens}
use Rattle.es_tree.specs.Scopes.{name_in, own_text}
use Rattle.es_tree.specs.StaticRules.{binds_name, has_pattern, has_value, is_bad_accessor, is_bad_accessor_of, is_bad_for, is_bad_rest, is_bad_using, is_duplicate_label, is_empty, is_label, is_lone_declarator, is_lone_parameter, is_loop_label, is_misplaced_meta, is_misplaced_return, is_misplaced_super, is_missing_label, parameters_in}
use Rattle.es_tree.specs.Table.{own_kinds}
use Rattle.es_tree.specs.Tree.{Tree, node, Label, Fields, done, ◌then◌, Field, missing, one, many, statements, Trees, empty, ◌before◌, kind_of}
use Rattle.es_tree.specs.declared.ast_type.AstType.{AstType}
use Rattle.es_tree.specs.declared.ast_type.AstType.TheVariants.{BreakStatement, CallExpression, ChainExpression, ClassDeclaration, ClassExpression, ContinueStatement, ExportNamedDeclaration, ForInStatement, ForOfStatement, FunctionExpression, Identifier, LabeledStatement, MemberExpression, MetaProperty, MethodDefinition, ObjectPattern, ObjectProperty, ObjectTarget, ParenthesizedExpression, PrivateIdentifier, RestElement, ReturnStatement, Super, TargetRest, UnaryExpression, VariableDeclaration, VariableDeclarator}
use Rattle.es_tree.specs.declared.place.Place.{Place}
use Rattle.es_tree.specs.declared.place.Place.TheVariants.{Declarator, Spine, Target}
use Rattle.es_semantic.proofs.FormEdges.{EdgesAll, EdgesIn, is_last}
use Rattle.es_resolution.specs.Declarations.{Bound}
use Rattle.es_super_calls.specs.SuperCalls.{calls_it}
use Rattle.es_valid_steps.specs.PlaceRules.{Keeps, KeepsHere, KeepsIn}
use Rattle.es_valid_steps.proofs.Changed.{in-parens, is-name, kept-inside}
use Rattle.es_valid_steps.proofs.Edges.{declarator-kind, label-kind, stands}
use Rattle.es_valid_steps.proofs.Moves.{is_jump}
use Rattle.es_valid_steps.proofs.Offers.{Alike}
use Rattle.es_constructor_this.proofs.Moved.{Moved, MovedAll, MovedIn, takes_none}
use Rattle.es_constructor_this.proofs.Moved.Moved.{blocked, called, cased, inside}
use Rattle.es_constructor_this.proofs.Moved.MovedAll.{head, tail}
use Rattle.es_constructor_this.proofs.Moved.MovedBy.{to_child, to_children, to_list}
use Rattle.es_constructor_this.proofs.Moved.MovedIn.{first, later}

-- OF NODES that don't change

is-private : (t : Tree) → is_private_name (Some t) ≡ same_type (kind_of t) PrivateIdentifier
is-private (node PrivateIdentifier l fs) = refl
is-private (node _ l fs) = refl

record SameDeclarator (t u : Tree) : Type 0 where
  name : binds_name u ≡ binds_name t
  value : has_value u ≡ has_value t

record SameCount (ts us : Trees) : Type 0 where
  none : is_empty us ≡ is_empty ts
  lone : is_lone_parameter us ≡ is_lone_parameter ts

same-count : (ts : Trees) → SameCount ts ts
same-count ts = record { none = refl; lone = refl }

abbrev list_of : Field → Trees
list_of (many ts) = ts
list_of _ = empty

abbrev second_list : Fields → Trees
second_list (a then (b then fs)) = list_of b
second_list _ = empty

abbrev value_parameters : Tree → Trees
value_parameters (node FunctionExpression l fs) = second_list fs
value_parameters _ = empty

abbrev second_parameters : Fields → Trees
second_parameters (a then (one t then fs)) = value_parameters t
second_parameters _ = empty

function-parameters : (a : Field) (l : Label) (hs fs : Fields) → parameters_in (a then (one (node FunctionExpression l hs) then fs)) ≡ second_list hs
function-parameters a l done fs = refl
function-parameters a l (n then done) fs = refl
function-parameters a l (n then (missing then hs)) fs = refl
function-parameters a l (n then (one t then hs)) fs = refl
function-parameters a l (n then (many ts then hs)) fs = refl
function-parameters a l (n then (statements ts then hs)) fs = refl

parameters-are : (fs : Fields) → parameters_in fs ≡ second_parameters fs
parameters-are done = refl
parameters-are (a then done) = refl
parameters-are (a then (missing then fs)) = refl
parameters-are (a then (one t then fs)) = at t
  where
    at : (t : Tree) → parameters_in (a then (one t then fs)) ≡ value_parameters t
    at (node FunctionExpression l hs) = function-parameters a l hs fs
    at (node _ l hs) = refl
parameters-are (a then (many ts then fs)) = refl
parameters-are (a then (statements ts then fs)) = refl

abbrev within_of : (Tree → Bool) → Option Tree → Bool
within_of q None = false
within_of q (Some t) = q (without_parens t)

abbrev is_simple : Tree → Bool
is_simple t = is_simple_target (kind_of t)

or-same : (a b c : Bool) → (b ≡ true → c ≡ true) → (a || b) ≡ true → (a || c) ≡ true
or-same true b c h e = refl
or-same false b c h e = h e

pub unmarked-callee : (up : List Ancestor) (l : Label) (fs : Fields) → calls_it fs ≡ true → KeepsIn up CallExpression l fs 0 fs → is_optional CallExpression l ≡ false
unmarked-callee up l (one (node Super m gs) then fs) e h = at (is_optional CallExpression l) _ h.0.0.super_word
  where
    at : (b c : Bool) → not ((not b && c) || false) ≡ false → b ≡ false
    at true c e = absurd (cc e)
    at false c e = refl
unmarked-callee up l (one (node _ m gs) then fs) e h = absurd (cc e)
unmarked-callee up l done e h = absurd (cc e)
unmarked-callee up l (missing then fs) e h = absurd (cc e)
unmarked-callee up l (many ts then fs) e h = absurd (cc e)
unmarked-callee up l (statements ts then fs) e h = absurd (cc e)

no-mark-in : (fs : Fields) → calls_it fs ≡ true → has_optional_in fs ≡ false
no-mark-in (one (node Super m gs) then fs) e = refl
no-mark-in (one (node _ m gs) then fs) e = absurd (cc e)
no-mark-in done e = absurd (cc e)
no-mark-in (missing then fs) e = absurd (cc e)
no-mark-in (many ts then fs) e = absurd (cc e)
no-mark-in (statements ts then fs) e = absurd (cc e)

not-more : (b c : Bool) → (b ≡ true → c ≡ true) → not b ≡ false → not c ≡ false
not-more true c h e = ap (λ d. not d) (h refl)
not-more false c h e = absurd (cc e)

return-same : (up : List Ancestor) (k : AstType) (l : Label) (fs gs : Fields) → is_misplaced_return up (node k l gs) ≡ is_misplaced_return up (node k l fs)
return-same up ReturnStatement l fs gs = refl
return-same up _ l fs gs = refl

super-same : (up : List Ancestor) (k : AstType) (l : Label) (fs gs : Fields) → is_misplaced_super up (node k l gs) ≡ is_misplaced_super up (node k l fs)
super-same up Super l fs gs = refl
super-same up _ l fs gs = refl

meta-same : (up : List Ancestor) (k : AstType) (l : Label) (fs gs : Fields) → is_misplaced_meta up (node k l gs) ≡ is_misplaced_meta up (node k l fs)
meta-same up MetaProperty l fs gs = refl
meta-same up _ l fs gs = refl

own-label-same : (up : List Ancestor) (k : AstType) (l : Label) (fs gs : Fields) → is_duplicate_label up (node k l gs) ≡ is_duplicate_label up (node k l fs)
own-label-same up Identifier l fs gs = refl
own-label-same up _ l fs gs = refl

mark-same : (p : Place) (k : AstType) (l : Label) (fs gs : Fields) → is_stray_optional p (node k l gs) ≡ is_stray_optional p (node k l fs)
mark-same Spine k l fs gs = refl
mark-same _ k l fs gs = refl

module _ {B : Bound → Type 0} where
  -- FIELDS, where one has changed: their number of children, and a test of one child
  pub child-stays : {c : ℕ → Bool} (fs gs : Fields) → MovedIn B c fs gs → (n : ℕ) → is_some (child_at n gs) ≡ is_some (child_at n fs)
  child-stays _ _ (first (to_child m)) zero = refl
  child-stays _ _ (first (to_children m)) zero = refl
  child-stays _ _ (first (to_list m)) zero = refl
  child-stays _ _ (first m) (suc n) = refl
  child-stays _ _ (later m) zero = refl
  child-stays _ _ (later {fs = fs} {gs = gs} m) (suc n) = child-stays fs gs m n

  module _ (test : Option Tree → Bool) where
    tested : {c : ℕ → Bool} (fs gs : Fields) → ((d : Bool) (t u : Tree) → Moved B d t u → test (Some u) ≡ test (Some t)) → MovedIn B c fs gs → (n : ℕ) → test (child_at n gs) ≡ test (child_at n fs)
    tested {c} _ _ same (first (to_child {t = t} {u = u} m)) zero = same (c zero) t u m
    tested _ _ same (first (to_children m)) zero = refl
    tested _ _ same (first (to_list m)) zero = refl
    tested _ _ same (first m) (suc n) = refl
    tested _ _ same (later m) zero = refl
    tested _ _ same (later {fs = fs} {gs = gs} m) (suc n) = tested fs gs same m n

  -- KINDS
  pub kind-same : {c : Bool} (q : AstType → Bool) → q CallExpression ≡ false → ((b : Bound) (l : Label) (fs : Fields) → q (kind_of (Rattle.es_set_this.specs.ConstructorThis.then_set (Rattle.es_steps.specs.Nodes.identifier b) l fs)) ≡ false) → (t u : Tree) → Moved B c t u → q (kind_of u) ≡ q (kind_of t)
  kind-same q e d t u (called {l = l} {fs = fs} b h calls) = d b l fs ∙ sym e
  kind-same q e d t u (blocked b h p) = refl
  kind-same q e d t u (cased b h p) = refl
  kind-same q e d t u (inside m) = refl

  name-same : {c : Bool} (t u : Tree) → Moved B c t u → is_name (Some u) ≡ is_name (Some t)
  name-same t u m = is-name u ∙ kind-same (λ k. same_type k Identifier) refl (λ b l fs. refl) t u m ∙ sym (is-name t)

  private-same : {c : Bool} (t u : Tree) → Moved B c t u → is_private_name (Some u) ≡ is_private_name (Some t)
  private-same t u m = is-private u ∙ kind-same (λ k. same_type k PrivateIdentifier) refl (λ b l fs. refl) t u m ∙ sym (is-private t)

  member-same : {c : Bool} (t u : Tree) → Moved B c t u → is_private_member (Some u) ≡ is_private_member (Some t)
  member-same t u (called b h e) = refl
  member-same t u (blocked b h p) = refl
  member-same t u (cased b h p) = refl
  member-same t u (inside {k = MemberExpression} {fs = fs} {gs = gs} m) = tested is_private_name fs gs (λ d t u r. private-same t u r) m 1
  member-same t u (inside {k = _} m) = refl

  -- the text of a name
  text-same : {c : Bool} (t u : Tree) → kind_of t ≡ Identifier → Moved B c t u → own_text u ≡ own_text t
  text-same t u e (called b h d) = absurd (cc e)
  text-same t u e (blocked b h p) = refl
  text-same t u e (cased b h p) = refl
  text-same t u e (inside m) = refl

  -- LABELS

  name-in-same : {c : ℕ → Bool} (k : AstType) (fs gs : Fields) → is_jump k ≡ true → EdgesIn stands k 0 fs → MovedIn B c fs gs → name_in gs ≡ name_in fs
  name-in-same k _ _ e h (first {fs = rest} (to_child {t = t} {u = u} m)) = text-same t u (label-kind k (is_last rest) t e h.0) m
  name-in-same k _ _ e h (first (to_children m)) = refl
  name-in-same k _ _ e h (first (to_list m)) = refl
  name-in-same k _ _ e h (later {f = missing} m) = refl
  name-in-same k _ _ e h (later {f = one t} m) = refl
  name-in-same k _ _ e h (later {f = many ts} m) = refl
  name-in-same k _ _ e h (later {f = statements ts} m) = refl

  jump-same : {c : ℕ → Bool} (up : List Ancestor) (k : AstType) (l : Label) (fs gs : Fields) → EdgesIn stands k 0 fs → MovedIn B c fs gs → is_missing_label up (node k l gs) ≡ is_missing_label up (node k l fs)
  jump-same up BreakStatement l _ _ h (first {fs = rest} (to_child {t = t} {u = u} m)) = ap (λ x. not (list_any (is_label x) (labels up))) (text-same t u (label-kind BreakStatement (is_last rest) t refl h.0) m)
  jump-same up BreakStatement l _ _ h (first (to_children m)) = refl
  jump-same up BreakStatement l _ _ h (first (to_list m)) = refl
  jump-same up BreakStatement l _ _ h (later {f = missing} m) = refl
  jump-same up BreakStatement l _ _ h (later {f = one t} m) = refl
  jump-same up BreakStatement l _ _ h (later {f = many ts} m) = refl
  jump-same up BreakStatement l _ _ h (later {f = statements ts} m) = refl
  jump-same up ContinueStatement l _ _ h (first {fs = rest} (to_child {t = t} {u = u} m)) = ap (λ x. not (list_any (is_loop_label x) (labels up))) (text-same t u (label-kind ContinueStatement (is_last rest) t refl h.0) m)
  jump-same up ContinueStatement l _ _ h (first (to_children m)) = refl
  jump-same up ContinueStatement l _ _ h (first (to_list m)) = refl
  jump-same up ContinueStatement l _ _ h (later {f = missing} m) = refl
  jump-same up ContinueStatement l _ _ h (later {f = one t} m) = refl
  jump-same up ContinueStatement l _ _ h (later {f = many ts} m) = refl
  jump-same up ContinueStatement l _ _ h (later {f = statements ts} m) = refl
  jump-same up _ l fs gs h m = refl

  mutual
    loop-same : {c : Bool} (t u : Tree) → Moved B c t u → is_labeled_loop u ≡ is_labeled_loop t
    loop-same t u (called b h e) = refl
    loop-same t u (blocked b h p) = refl
    loop-same t u (cased b h p) = refl
    loop-same t u (inside {k = LabeledStatement} {l = l} {fs = fs} {gs = gs} m) = labeled l gs ∙ body-same fs gs m ∙ sym (labeled l fs)
      where
        labeled : (l : Label) (fs : Fields) → is_labeled_loop (node LabeledStatement l fs) ≡ has_loop_body fs
        labeled l done = refl
        labeled l (n then done) = refl
        labeled l (n then (missing then fs)) = refl
        labeled l (n then (one t then fs)) = refl
        labeled l (n then (many ts then fs)) = refl
        labeled l (n then (statements ts then fs)) = refl
    loop-same t u (inside {k = _} m) = refl

    body-same : {c : ℕ → Bool} (fs gs : Fields) → MovedIn B c fs gs → has_loop_body gs ≡ has_loop_body fs
    body-same _ _ (first {fs = done} m) = refl
    body-same _ _ (first {fs = missing then fs} m) = refl
    body-same _ _ (first {fs = one t then fs} m) = refl
    body-same _ _ (first {fs = many ts then fs} m) = refl
    body-same _ _ (first {fs = statements ts then fs} m) = refl
    body-same _ _ (later (first (to_child {t = t} {u = u} m))) = loop-same t u m
    body-same _ _ (later (first (to_children m))) = refl
    body-same _ _ (later (first (to_list m))) = refl
    body-same _ _ (later (later {f = missing} m)) = refl
    body-same _ _ (later (later {f = one t} m)) = refl
    body-same _ _ (later (later {f = many ts} m)) = refl
    body-same _ _ (later (later {f = statements ts} m)) = refl

  -- DECLARATORS

  declarator-same : {c : Bool} (t u : Tree) → kind_of t ≡ VariableDeclarator → Moved B c t u → SameDeclarator t u
  declarator-same t u e (called b h d) = absurd (cc e)
  declarator-same t u e (blocked b h p) = absurd (cc e)
  declarator-same t u e (cased b h p) = absurd (cc e)
  declarator-same t u e (inside {fs = fs} {gs = gs} m) = record { name = tested is_name fs gs (λ d t u r. name-same t u r) m 0; value = child-stays fs gs m 1 }

  pattern-same : {c : Bool} (ts us : Trees) → EdgesAll stands VariableDeclaration 0 ts → MovedAll B c ts us → has_pattern us ≡ has_pattern ts
  pattern-same _ _ h (head {t = t} {u = u} {ts = ts} m) = λ i. not ((declarator-same t u (declarator-kind t h.0) m).name i) || has_pattern ts
  pattern-same _ _ h (tail {t = t} {ts = ts} {us = us} m) = λ i. not (binds_name t) || pattern-same ts us h.1 m i

  lone-same : {c : Bool} (ts us : Trees) → EdgesAll stands VariableDeclaration 0 ts → MovedAll B c ts us → is_lone_declarator us ≡ is_lone_declarator ts
  lone-same _ _ h (head {t = t} {u = u} {ts = empty} m) = λ i. not ((declarator-same t u (declarator-kind t h.0) m).value i)
  lone-same _ _ h (head {ts = v before ts} m) = refl
  lone-same _ _ h (tail (head m)) = refl
  lone-same _ _ h (tail (tail m)) = refl

  using-same : {c : ℕ → Bool} (up : List Ancestor) (k : AstType) (l : Label) (fs gs : Fields) → EdgesIn stands k 0 fs → MovedIn B c fs gs → is_bad_using up (node k l gs) ≡ is_bad_using up (node k l fs)
  using-same up VariableDeclaration l _ _ h (first (to_children {ts = ts} {us = us} m)) = λ i. bytes_eq (first_text l.texts) (codes "using") && (pattern-same ts us h.0 m i || is_script_top up || stands_in ForInStatement 0 up || stands_in ExportNamedDeclaration 0 up)
  using-same up VariableDeclaration l _ _ h (first (to_child m)) = refl
  using-same up VariableDeclaration l _ _ h (first (to_list m)) = refl
  using-same up VariableDeclaration l _ _ h (later {f = missing} m) = refl
  using-same up VariableDeclaration l _ _ h (later {f = one t} m) = refl
  using-same up VariableDeclaration l _ _ h (later {f = many ts} m) = refl
  using-same up VariableDeclaration l _ _ h (later {f = statements ts} m) = refl
  using-same up _ l fs gs h m = refl

  head-same : {c : ℕ → Bool} (up : List Ancestor) (k : AstType) (l : Label) (fs gs : Fields) → EdgesIn stands k 0 fs → MovedIn B c fs gs → is_bad_for up (node k l gs) ≡ is_bad_for up (node k l fs)
  head-same up VariableDeclaration l _ _ h (first (to_children {ts = ts} {us = us} m)) = λ i. (stands_in ForInStatement 0 up || stands_in ForOfStatement 0 up) && not (lone-same ts us h.0 m i)
  head-same up VariableDeclaration l _ _ h (first (to_child m)) = refl
  head-same up VariableDeclaration l _ _ h (first (to_list m)) = refl
  head-same up VariableDeclaration l _ _ h (later {f = missing} m) = refl
  head-same up VariableDeclaration l _ _ h (later {f = one t} m) = refl
  head-same up VariableDeclaration l _ _ h (later {f = many ts} m) = refl
  head-same up VariableDeclaration l _ _ h (later {f = statements ts} m) = refl
  head-same up _ l fs gs h m = refl

  value-same : {c : ℕ → Bool} (p : Place) (k : AstType) (l : Label) (fs gs : Fields) → MovedIn B c fs gs → is_missing_init p (node k l gs) ≡ is_missing_init p (node k l fs)
  value-same (Declarator top lexical constant) VariableDeclarator l fs gs m = λ i. (constant || not (tested is_name fs gs (λ d t u r. name-same t u r) m 0 i)) && not (child-stays fs gs m 1 i)
  value-same _ VariableDeclarator l fs gs m = refl
  value-same p _ l fs gs m = refl

  -- PARAMETERS of accessors

  list-count : {c : Bool} (ts us : Trees) → MovedAll B c ts us → SameCount ts us
  list-count _ _ (head {t = t} {u = u} {ts = empty} m) = record { none = refl; lone = ap (λ v. not v) (kind-same (λ k. same_type k RestElement) refl (λ b l fs. refl) t u m) }
  list-count _ _ (head {ts = v before ts} m) = record { none = refl; lone = refl }
  list-count _ _ (tail (head m)) = record { none = refl; lone = refl }
  list-count _ _ (tail (tail m)) = record { none = refl; lone = refl }

  second-count : {c : ℕ → Bool} (fs gs : Fields) → MovedIn B c fs gs → SameCount (second_list fs) (second_list gs)
  second-count _ _ (first {fs = done} m) = same-count empty
  second-count _ _ (first {fs = f then fs} m) = same-count (list_of f)
  second-count _ _ (later (first (to_child m))) = same-count empty
  second-count _ _ (later (first (to_children {ts = ts} {us = us} m))) = list-count ts us m
  second-count _ _ (later (first (to_list m))) = same-count empty
  second-count _ _ (later (later {f = f} m)) = same-count (list_of f)

  value-count : {c : Bool} (t u : Tree) → Moved B c t u → SameCount (value_parameters t) (value_parameters u)
  value-count t u (called b h e) = same-count empty
  value-count t u (blocked b h p) = same-count empty
  value-count t u (cased b h p) = same-count empty
  value-count t u (inside {k = FunctionExpression} {fs = fs} {gs = gs} m) = second-count fs gs m
  value-count t u (inside {k = _} m) = same-count empty

  fields-count : {c : ℕ → Bool} (fs gs : Fields) → MovedIn B c fs gs → SameCount (second_parameters fs) (second_parameters gs)
  fields-count _ _ (first {fs = done} m) = same-count empty
  fields-count _ _ (first {fs = missing then fs} m) = same-count empty
  fields-count _ _ (first {fs = one t then fs} m) = same-count (value_parameters t)
  fields-count _ _ (first {fs = many ts then fs} m) = same-count empty
  fields-count _ _ (first {fs = statements ts then fs} m) = same-count empty
  fields-count _ _ (later (first (to_child {t = t} {u = u} m))) = value-count t u m
  fields-count _ _ (later (first (to_children m))) = same-count empty
  fields-count _ _ (later (first (to_list m))) = same-count empty
  fields-count _ _ (later (later {f = missing} m)) = same-count empty
  fields-count _ _ (later (later {f = one t} m)) = same-count (value_parameters t)
  fields-count _ _ (later (later {f = many ts} m)) = same-count empty
  fields-count _ _ (later (later {f = statements ts} m)) = same-count empty

  accessor-same : {c : ℕ → Bool} (k : AstType) (l : Label) (fs gs : Fields) → MovedIn B c fs gs → is_bad_accessor (node k l gs) ≡ is_bad_accessor (node k l fs)
  accessor-same k l fs gs m = at k
    where
      s : SameCount (second_parameters fs) (second_parameters gs)
      s = fields-count fs gs m

      empties : is_empty (parameters_in gs) ≡ is_empty (parameters_in fs)
      empties = ap (λ ts. is_empty ts) (parameters-are gs) ∙ s.none ∙ sym (ap (λ ts. is_empty ts) (parameters-are fs))

      lones : is_lone_parameter (parameters_in gs) ≡ is_lone_parameter (parameters_in fs)
      lones = ap (λ ts. is_lone_parameter ts) (parameters-are gs) ∙ s.lone ∙ sym (ap (λ ts. is_lone_parameter ts) (parameters-are fs))

      of-parameters : is_bad_accessor_of l gs ≡ is_bad_accessor_of l fs
      of-parameters = λ i. (bytes_eq (first_text l.texts) (codes "get") && not (empties i)) || (bytes_eq (first_text l.texts) (codes "set") && not (lones i))

      at : (k : AstType) → is_bad_accessor (node k l gs) ≡ is_bad_accessor (node k l fs)
      at MethodDefinition = of-parameters
      at ObjectProperty = of-parameters
      at _ = refl

  -- TARGETS

  mutual
    simple-same : {c : Bool} (t u : Tree) → Moved B c t u → is_simple (without_parens u) ≡ is_simple (without_parens t)
    simple-same t u (called b h e) = refl
    simple-same t u (blocked b h p) = refl
    simple-same t u (cased b h p) = refl
    simple-same t u (inside {k = ParenthesizedExpression} {l = l} {fs = fs} {gs = gs} m) = in-parens is_simple l gs refl ∙ simple-first fs gs m ∙ sym (in-parens is_simple l fs refl)
    simple-same t u (inside {k = _} m) = refl

    simple-first : {c : ℕ → Bool} (fs gs : Fields) → MovedIn B c fs gs → within_of is_simple (child_at 0 gs) ≡ within_of is_simple (child_at 0 fs)
    simple-first _ _ (first (to_child {t = t} {u = u} m)) = simple-same t u m
    simple-first _ _ (first (to_children m)) = refl
    simple-first _ _ (first (to_list m)) = refl
    simple-first _ _ (later m) = refl

  target-same : {c : ℕ → Bool} (p : Place) (k : AstType) (l : Label) (fs gs : Fields) → MovedIn B c fs gs → is_simple (without_parens (node k l gs)) ≡ is_simple (without_parens (node k l fs)) → is_bad_target p (node k l gs) ≡ is_bad_target p (node k l fs)
  target-same (Target s) k l fs gs m e = ap (λ b. not (list_any (same_type k) (own_kinds s) || b)) e
  target-same _ k l fs gs m e = refl

  rest-same : {c : ℕ → Bool} (up : List Ancestor) (k : AstType) (l : Label) (fs gs : Fields) → MovedIn B c fs gs → is_simple (without_parens (node k l gs)) ≡ is_simple (without_parens (node k l fs)) → is_bad_rest up (node k l gs) ≡ is_bad_rest up (node k l fs)
  rest-same [] k l fs gs m e = refl
  rest-same (a ∷ []) k l fs gs m e = refl
  rest-same (a ∷ (b ∷ up)) k l fs gs m e = ap (λ d. (leads_by RestElement 0 a && same_type b.kind ObjectPattern && not (same_type k Identifier)) || (leads_by TargetRest 0 a && same_type b.kind ObjectTarget && not d)) e

  -- DELETE

  mutual
    kept-same : {c : Bool} (t u : Tree) → Moved B c t u → is_kept (without_parens u) ≡ is_kept (without_parens t)
    kept-same t u (called b h e) = refl
    kept-same t u (blocked b h p) = refl
    kept-same t u (cased b h p) = refl
    kept-same t u (inside {k = ParenthesizedExpression} {l = l} {fs = fs} {gs = gs} m) = kept-inside l gs ∙ kept-first fs gs m ∙ sym (kept-inside l fs)
    kept-same t u (inside {k = Identifier} m) = refl
    kept-same t u (inside {k = MemberExpression} {fs = fs} {gs = gs} m) = tested is_private_name fs gs (λ d t u r. private-same t u r) m 1
    kept-same t u (inside {k = ChainExpression} {fs = fs} {gs = gs} m) = tested is_private_member fs gs (λ d t u r. member-same t u r) m 0
    kept-same t u (inside {k = _} m) = refl

    kept-first : {c : ℕ → Bool} (fs gs : Fields) → MovedIn B c fs gs → is_kept_within (child_at 0 gs) ≡ is_kept_within (child_at 0 fs)
    kept-first _ _ (first (to_child {t = t} {u = u} m)) = kept-same t u m
    kept-first _ _ (first (to_children m)) = refl
    kept-first _ _ (first (to_list m)) = refl
    kept-first _ _ (later m) = refl

  delete-same : {c : ℕ → Bool} (k : AstType) (l : Label) (fs gs : Fields) → MovedIn B c fs gs → is_bad_delete (node k l gs) ≡ is_bad_delete (node k l fs)
  delete-same UnaryExpression l fs gs m = ap (λ b. bytes_eq (first_text l.texts) (codes "delete") && b) (kept-first fs gs m)
  delete-same _ l fs gs m = refl

  -- CHAINS: such a call has no mark, since its `super` may stand there

  mutual
    optional-kept : {c : Bool} (up : List Ancestor) (t u : Tree) → Moved B c t u → Keeps up t → has_optional t ≡ true → has_optional u ≡ true
    optional-kept up t u (called {l = l} {fs = fs} b h e) keeps o =
        let a = unmarked-callee up l fs e keeps.1 in
        let d = no-mark-in fs e in
        absurd (let no : false ≡ true = sym (λ i. a i || d i) ∙ o in cc no)
    optional-kept up t u (blocked b h p) keeps o = absurd (cc o)
    optional-kept up t u (cased b h p) keeps o = absurd (cc o)
    optional-kept up t u (inside {k = MemberExpression} {l = l} {fs = fs} {gs = gs} m) keeps o = or-same (is_optional MemberExpression l) (has_optional_in fs) (has_optional_in gs) (optional-in up MemberExpression l fs 0 fs gs m keeps.1) o
    optional-kept up t u (inside {k = CallExpression} {l = l} {fs = fs} {gs = gs} m) keeps o = or-same (is_optional CallExpression l) (has_optional_in fs) (has_optional_in gs) (optional-in up CallExpression l fs 0 fs gs m keeps.1) o
    optional-kept up t u (inside {k = _} m) keeps o = absurd (cc o)

    optional-in : {c : ℕ → Bool} (up : List Ancestor) (k : AstType) (l : Label) (all : Fields) (i : ℕ) (fs gs : Fields) → MovedIn B c fs gs → KeepsIn up k l all i fs → has_optional_in fs ≡ true → has_optional_in gs ≡ true
    optional-in up k l all i _ _ (first (to_child {t = t} {u = u} m)) keeps o = optional-kept (ancestor k l all i 0 ∷ up) t u m keeps.0 o
    optional-in up k l all i _ _ (first (to_children m)) keeps o = absurd (cc o)
    optional-in up k l all i _ _ (first (to_list m)) keeps o = absurd (cc o)
    optional-in up k l all i _ _ (later {f = missing} m) keeps o = absurd (cc o)
    optional-in up k l all i _ _ (later {f = one t} m) keeps o = o
    optional-in up k l all i _ _ (later {f = many ts} m) keeps o = absurd (cc o)
    optional-in up k l all i _ _ (later {f = statements ts} m) keeps o = absurd (cc o)

  chain-kept : {c : ℕ → Bool} (up : List Ancestor) (k : AstType) (l : Label) (fs gs : Fields) → MovedIn B c fs gs → KeepsIn up k l fs 0 fs → is_empty_chain (node k l fs) ≡ false → is_empty_chain (node k l gs) ≡ false
  chain-kept up ChainExpression l fs gs m keeps e = not-more (has_optional_in fs) (has_optional_in gs) (optional-in up ChainExpression l fs 0 fs gs m keeps) e
  chain-kept up _ l fs gs m keeps e = refl

  -- THE OTHERS

  -- ONE NODE

  pub here-moved : (up : List Ancestor) (k : AstType) (l : Label) (fs gs : Fields) → EdgesIn stands k 0 fs → MovedIn B (takes_none k) fs gs → KeepsIn up k l fs 0 fs → KeepsHere up (node k l fs) → KeepsHere up (node k l gs)
  here-moved up k l fs gs edges m keeps h =
      let simple : is_simple (without_parens (node k l gs)) ≡ is_simple (without_parens (node k l fs)) = simple-same {c = false} (node k l fs) (node k l gs) (inside m) in
      record {
        jump = jump-same up k l fs gs edges m ∙ h.jump;
        label = own-label-same up k l fs gs ∙ h.label;
        returned = return-same up k l fs gs ∙ h.returned;
        super_word = super-same up k l fs gs ∙ h.super_word;
        target = target-same (place_of up) k l fs gs m simple ∙ h.target;
        chain = chain-kept up k l fs gs m keeps h.chain;
        mark = mark-same (place_of up) k l fs gs ∙ h.mark;
        deleted = delete-same k l fs gs m ∙ h.deleted;
        value = value-same (place_of up) k l fs gs m ∙ h.value;
        using_word = using-same up k l fs gs edges m ∙ h.using_word;
        head = head-same up k l fs gs edges m ∙ h.head;
        item = h.item;
        accessor = accessor-same k l fs gs m ∙ h.accessor;
        rest = rest-same up k l fs gs m simple ∙ h.rest;
        declaration = h.declaration;
        meta = meta-same up k l fs gs ∙ h.meta;
      }

  -- WHAT IT OFFERS

  derived-same : (k : AstType) (l : Label) (fs gs : Fields) → MovedIn B (takes_none k) fs gs → (i : ℕ) → is_derived (ancestor k l gs i 0) ≡ is_derived (ancestor k l fs i 0)
  derived-same ClassDeclaration l fs gs m i = child-stays fs gs m 1
  derived-same ClassExpression l fs gs m i = child-stays fs gs m 1
  derived-same _ l fs gs m i = refl

  labels-same : (k : AstType) (l : Label) (fs gs : Fields) → EdgesIn stands k 0 fs → MovedIn B (takes_none k) fs gs → (i : ℕ) → own_labels (ancestor k l gs i 0) ≡ own_labels (ancestor k l fs i 0)
  labels-same LabeledStatement l fs gs edges m i = λ j. if i == 1 then record { name = name-in-same LabeledStatement fs gs refl edges m j; loop = body-same fs gs m j } ∷ [] else []
  labels-same _ l fs gs edges m i = refl

  pub alike-moved : (k : AstType) (l : Label) (fs gs : Fields) → EdgesIn stands k 0 fs → MovedIn B (takes_none k) fs gs → (i : ℕ) → Alike (ancestor k l fs i 0) (ancestor k l gs i 0)
  alike-moved k l fs gs edges m i = record { kind = refl; label = refl; index = refl; labels = labels-same k l fs gs edges m i; derived = derived-same k l fs gs m i }
