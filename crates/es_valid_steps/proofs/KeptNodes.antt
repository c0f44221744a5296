-- A node in whose fields a step was taken keeps the rules of places, and is the same to what stands in it.
use Rattle.std.proofs.Common.{◌≡◌, ◌==◌, ℕ, refl, sym, ap, ◌∙◌, List, [], ◌∷◌}
use Rattle.std.specs.Prelude.{Bool, true, false, not, ◌&&◌, ◌||◌, bytes_eq, codes, Option, if◌then◌else◌}
use Rattle.std.specs.List.{list_any}
use Rattle.es_tree.specs.Ancestors.{Ancestor, ancestor, has_loop_body, is_derived, is_script_top, labels, leads_by, own_labels, place_of, stands_in}
use Rattle.es_tree.specs.Children.{child_at, only_child}
use Rattle.es_tree.specs.CoreStaticRules.{has_optional_in, is_bad_delete, is_bad_target, is_empty_chain, is_missing_init, is_name, is_simple_target, is_stray_optional, needs_value}
use Rattle.es_tree.specs.HasForm.{has_form, same_type}
use Rattle.es_tree.specs.Names.{first_text}
use Rattle.es_tree.specs.Parens.{without_parens}
use Rattle.es_tree.specs.Scopes.{name_in, own_text}
use Rattle.es_tree.specs.StaticRules.{binds_name, has_pattern, has_value, is_accessor_word, is_bad_accessor, is_bad_accessor_of, is_bad_for, is_bad_rest, is_bad_using, is_duplicate_label, is_empty, is_label, is_lone_declarator, is_lone_parameter, is_loop_label, is_misplaced_meta, is_misplaced_return, is_misplaced_super, is_missing_label, parameters_in}
use Rattle.es_tree.specs.Table.{own_kinds}
use Rattle.es_tree.specs.Tree.{Tree, node, Label, Fields, done, ◌then◌, Field, missing, one, many, statements, Trees, empty, kind_of}
use Rattle.es_tree.specs.declared.ast_type.AstType.{AstType}
use Rattle.es_tree.specs.declared.ast_type.AstType.TheVariants.{ArrowFunctionExpression, BreakStatement, ChainExpression, ClassDeclaration, ClassExpression, ContinueStatement, ExportNamedDeclaration, ForInStatement, ForOfStatement, FunctionExpression, Identifier, LabeledStatement, MetaProperty, MethodDefinition, ObjectPattern, ObjectProperty, ObjectTarget, RestElement, ReturnStatement, Super, TargetRest, UnaryExpression, VariableDeclaration, VariableDeclarator}
use Rattle.es_tree.specs.declared.place.Place.{Place}
use Rattle.es_tree.specs.declared.place.Place.TheVariants.{Declarator, Spine, Target}
use Rattle.es_runs.proofs.RowKinds.{is_left_kind}
use Rattle.es_semantic.proofs.FormEdges.{Edges, EdgesAll, EdgesIn, is_last}
use Rattle.es_tree.specs.declared.table.Sort.{Sort}
use Rattle.es_valid_steps.specs.ArrowNodes.{is_arrow_accessor, is_kind_within, is_this_within}
use Rattle.es_valid_steps.specs.PlaceRules.{Keeps, KeepsHere, KeepsIn}
use Rattle.es_valid_steps.proofs.MadeNodes.{is_acted}
use Rattle.es_valid_steps.proofs.Changed.{Changed, ChangedField, ChangedFields, ChangedTrees, child-kept, first-name, is_hidden, is_replaced, kept-text, kind-same, loop-same, optional-in, rest-acted, rest-left, simple-kept, within-kept}
use Rattle.es_valid_steps.proofs.Changed.Changed.{stays, row, function, named, inside}
use Rattle.es_valid_steps.proofs.Changed.ChangedFields.{ends, more}
use Rattle.es_valid_steps.proofs.Changed.ChangedField.{same_field, unseen, child_changed, children_changed, list_changed}
use Rattle.es_valid_steps.proofs.Changed.ChangedTrees.{none, some}
use Rattle.es_valid_steps.proofs.Edges.{declarator-kind, edges, label-kind, no-arrow-method, no-this-declared, stands}
use Rattle.es_valid_steps.proofs.Moves.{in-moved, is_jump, not-more}
use Rattle.es_valid_steps.proofs.Offers.{Alike, near-self, near-within, offers-self, offers-within}

-- LABELS

row-label : (t : Tree) → kind_of t ≡ Identifier → is_replaced (kind_of t) ≡ false
row-label t e = ap (λ k. is_replaced k) e

-- the name of a label is the same
label-same : {turns : Bool} (k : AstType) (last : Bool) (t u : Tree) → is_jump k ≡ true → Edges stands k 0 last t → Changed turns t u → own_text u ≡ own_text t
label-same k last t u e h c = kept-text t u c (row-label t (label-kind k last t e h))

jump-hidden : (k : AstType) → is_jump k ≡ true → is_hidden k ≡ false
jump-hidden BreakStatement e = refl
jump-hidden ContinueStatement e = refl
jump-hidden LabeledStatement e = refl
jump-hidden _ e = absurd (cc e)

name-same : {turns : Bool} (k : AstType) (fs gs : Fields) → is_jump k ≡ true → EdgesIn stands k 0 fs → ChangedFields turns k fs gs → name_in gs ≡ name_in fs
name-same k fs gs e h ends = refl
name-same k fs gs e h (more {f = missing} same_field cs) = refl
name-same k fs gs e h (more {f = one t} same_field cs) = refl
name-same k fs gs e h (more {f = many ts} same_field cs) = refl
name-same k fs gs e h (more {f = statements ts} same_field cs) = refl
name-same k fs gs e h (more (unseen d) cs) = absurd (cc (jump-hidden k e, d))
name-same k fs gs e h (more {fs = rest} (child_changed {t = t} {u = u} c) cs) = label-same k (is_last rest) t u e h.0 c
name-same k fs gs e h (more (children_changed c) cs) = refl
name-same k fs gs e h (more list_changed cs) = refl

-- a jump with a label and one without
jump-kept : {turns : Bool} (up : List Ancestor) (k : AstType) (l : Label) (fs gs : Fields) → EdgesIn stands k 0 fs → ChangedFields turns k fs gs → is_missing_label up (node k l fs) ≡ false → is_missing_label up (node k l gs) ≡ false
jump-kept up BreakStatement l fs gs h ends e = e
jump-kept up BreakStatement l fs gs h (more {f = missing} same_field cs) e = e
jump-kept up BreakStatement l fs gs h (more {f = one t} same_field cs) e = e
jump-kept up BreakStatement l fs gs h (more {f = many ts} same_field cs) e = e
jump-kept up BreakStatement l fs gs h (more {f = statements ts} same_field cs) e = e
jump-kept up BreakStatement l fs gs h (more (unseen d) cs) e = absurd (cc d)
jump-kept up BreakStatement l fs gs h (more {fs = rest} (child_changed {t = t} {u = u} c) cs) e = ap (λ x. not (list_any (is_label x) (labels up))) (label-same BreakStatement (is_last rest) t u refl h.0 c) ∙ e
jump-kept up BreakStatement l fs gs h (more (children_changed c) cs) e = e
jump-kept up BreakStatement l fs gs h (more list_changed cs) e = e
jump-kept up ContinueStatement l fs gs h ends e = e
jump-kept up ContinueStatement l fs gs h (more {f = missing} same_field cs) e = e
jump-kept up ContinueStatement l fs gs h (more {f = one t} same_field cs) e = e
jump-kept up ContinueStatement l fs gs h (more {f = many ts} same_field cs) e = e
jump-kept up ContinueStatement l fs gs h (more {f = statements ts} same_field cs) e = e
jump-kept up ContinueStatement l fs gs h (more (unseen d) cs) e = absurd (cc d)
jump-kept up ContinueStatement l fs gs h (more {fs = rest} (child_changed {t = t} {u = u} c) cs) e = ap (λ x. not (list_any (is_loop_label x) (labels up))) (label-same ContinueStatement (is_last rest) t u refl h.0 c) ∙ e
jump-kept up ContinueStatement l fs gs h (more (children_changed c) cs) e = e
jump-kept up ContinueStatement l fs gs h (more list_changed cs) e = e
jump-kept up _ l fs gs h c e = refl

-- DECLARATORS

declarator-row : (t : Tree) → kind_of t ≡ VariableDeclarator → is_acted (kind_of t) ≡ false
declarator-row t e = ap (λ k. is_acted k) e

record SameDeclarator (t u : Tree) : Type 0 where
  name : binds_name u ≡ binds_name t
  value : has_value u ≡ has_value t

declarator-same : {turns : Bool} (t u : Tree) → kind_of t ≡ VariableDeclarator → Edges stands VariableDeclaration 0 false t → Changed turns t u → SameDeclarator t u
declarator-same t u e h stays = record { name = refl; value = refl }
declarator-same t u e h (row r l) = absurd (cc (declarator-row t e, r))
declarator-same t u e h (function v) = absurd (cc e)
declarator-same t u e h (named v) = absurd (cc e)
declarator-same t u e h (inside {k = k} {fs = fs} {gs = gs} c) =
    let open_kind : is_hidden k ≡ false = ap (λ j. is_hidden j) e in
    record { name = first-name k fs gs open_kind (λ v. no-this-declared k fs e h.1) c; value = child-kept k 1 fs gs open_kind c }

pattern-same : {turns : Bool} (ts us : Trees) → EdgesAll stands VariableDeclaration 0 ts → ChangedTrees turns ts us → has_pattern us ≡ has_pattern ts
pattern-same ts us h none = refl
pattern-same ts us h (some {t = t} {u = u} {ts = ts'} {us = us'} c cs) = λ i. not ((declarator-same t u (declarator-kind t h.0) h.0 c).name i) || pattern-same ts' us' h.1 cs i

lone-same : {turns : Bool} (ts us : Trees) → EdgesAll stands VariableDeclaration 0 ts → ChangedTrees turns ts us → is_lone_declarator us ≡ is_lone_declarator ts
lone-same ts us h none = refl
lone-same ts us h (some {t = t} {u = u} c none) = λ i. not ((declarator-same t u (declarator-kind t h.0) h.0 c).value i)
lone-same ts us h (some c (some d cs)) = refl

using-kept : {turns : Bool} (up : List Ancestor) (k : AstType) (l : Label) (fs gs : Fields) → EdgesIn stands k 0 fs → ChangedFields turns k fs gs → is_bad_using up (node k l fs) ≡ false → is_bad_using up (node k l gs) ≡ false
using-kept up VariableDeclaration l fs gs h ends e = e
using-kept up VariableDeclaration l fs gs h (more {f = missing} same_field cs) e = e
using-kept up VariableDeclaration l fs gs h (more {f = one t} same_field cs) e = e
using-kept up VariableDeclaration l fs gs h (more {f = many ts} same_field cs) e = e
using-kept up VariableDeclaration l fs gs h (more {f = statements ts} same_field cs) e = e
using-kept up VariableDeclaration l fs gs h (more (unseen d) cs) e = absurd (cc d)
using-kept up VariableDeclaration l fs gs h (more (child_changed c) cs) e = e
using-kept up VariableDeclaration l fs gs h (more {fs = rest} {gs = rest'} (children_changed {ts = ts} {us = us} c) cs) e = (λ i. bytes_eq (first_text l.texts) (codes "using") && (pattern-same ts us h.0 c i || is_script_top up || stands_in ForInStatement 0 up || stands_in ExportNamedDeclaration 0 up)) ∙ e
using-kept up VariableDeclaration l fs gs h (more list_changed cs) e = e
using-kept up _ l fs gs h c e = refl

head-kept : {turns : Bool} (up : List Ancestor) (k : AstType) (l : Label) (fs gs : Fields) → EdgesIn stands k 0 fs → ChangedFields turns k fs gs → is_bad_for up (node k l fs) ≡ false → is_bad_for up (node k l gs) ≡ false
head-kept up VariableDeclaration l fs gs h ends e = e
head-kept up VariableDeclaration l fs gs h (more {f = missing} same_field cs) e = e
head-kept up VariableDeclaration l fs gs h (more {f = one t} same_field cs) e = e
head-kept up VariableDeclaration l fs gs h (more {f = many ts} same_field cs) e = e
head-kept up VariableDeclaration l fs gs h (more {f = statements ts} same_field cs) e = e
head-kept up VariableDeclaration l fs gs h (more (unseen d) cs) e = absurd (cc d)
head-kept up VariableDeclaration l fs gs h (more (child_changed c) cs) e = e
head-kept up VariableDeclaration l fs gs h (more (children_changed {ts = ts} {us = us} c) cs) e = (λ i. (stands_in ForInStatement 0 up || stands_in ForOfStatement 0 up) && not (lone-same ts us h.0 c i)) ∙ e
head-kept up VariableDeclaration l fs gs h (more list_changed cs) e = e
head-kept up _ l fs gs h c e = refl

needs-same : (p : Place) (b c : Option Tree) → is_name c ≡ is_name b → needs_value p c ≡ needs_value p b
needs-same (Declarator top lexical constant) b c e = ap (λ v. constant || not v) e
needs-same _ b c e = refl

value-kept : {turns : Bool} (p : Place) (k : AstType) (l : Label) (fs gs : Fields) → EdgesIn stands k 0 fs → ChangedFields turns k fs gs → is_missing_init p (node k l fs) ≡ false → is_missing_init p (node k l gs) ≡ false
value-kept p VariableDeclarator l fs gs a c e = (λ i. needs-same p (child_at 0 fs) (child_at 0 gs) (first-name VariableDeclarator fs gs refl (λ v. no-this-declared VariableDeclarator fs refl a) c) i && not (child-kept VariableDeclarator 1 fs gs refl c i)) ∙ e
value-kept p _ l fs gs a c e = refl

-- PARAMETERS of accessors

abbrev second_field : Fields → Field
second_field (a then (b then fs)) = b
second_field _ = missing

abbrev list_of : Field → Trees
list_of (many ts) = ts
list_of _ = empty

abbrev value_parameters : Tree → Trees
value_parameters (node FunctionExpression l fs) = list_of (second_field fs)
value_parameters _ = empty

abbrev field_parameters : Field → Trees
field_parameters (one t) = value_parameters t
field_parameters _ = empty

function-parameters : (a : Field) (l : Label) (hs fs : Fields) → parameters_in (a then (one (node FunctionExpression l hs) then fs)) ≡ list_of (second_field hs)
function-parameters a l done fs = refl
function-parameters a l (n then done) fs = refl
function-parameters a l (n then (missing then hs)) fs = refl
function-parameters a l (n then (one t then hs)) fs = refl
function-parameters a l (n then (many ts then hs)) fs = refl
function-parameters a l (n then (statements ts then hs)) fs = refl

one-parameters : (a : Field) (t : Tree) (fs : Fields) → parameters_in (a then (one t then fs)) ≡ value_parameters t
one-parameters a (node FunctionExpression l hs) fs = function-parameters a l hs fs
one-parameters a (node _ l hs) fs = refl

parameters-are : (fs : Fields) → parameters_in fs ≡ field_parameters (second_field fs)
parameters-are done = refl
parameters-are (a then done) = refl
parameters-are (a then (missing then fs)) = refl
parameters-are (a then (one t then fs)) = one-parameters a t fs
parameters-are (a then (many ts then fs)) = refl
parameters-are (a then (statements ts then fs)) = refl

record SameCount (ts us : Trees) : Type 0 where
  none_there : is_empty us ≡ is_empty ts
  one_there : is_lone_parameter us ≡ is_lone_parameter ts

same-count : (ts : Trees) → SameCount ts ts
same-count ts = record { none_there = refl; one_there = refl }

list-count : {turns : Bool} (ts us : Trees) → ChangedTrees turns ts us → SameCount ts us
list-count ts us none = same-count empty
list-count ts us (some {t = t} {u = u} c none) = record { none_there = refl; one_there = ap (λ v. not v) (kind-same (λ j. same_type j RestElement) rest-acted rest-left refl t u c (λ v d. refl)) }
list-count ts us (some c (some d cs)) = record { none_there = refl; one_there = refl }

second-list : {turns : Bool} (fs gs : Fields) → ChangedFields turns FunctionExpression fs gs → SameCount (list_of (second_field fs)) (list_of (second_field gs))
second-list fs gs ends = same-count empty
second-list fs gs (more c ends) = same-count empty
second-list {turns} fs gs (more c (more {f = f} {g = g} d cs)) = at f g d
  where
    at : (f g : Field) → ChangedField turns FunctionExpression f g → SameCount (list_of f) (list_of g)
    at f g same_field = same-count (list_of f)
    at f g (unseen e) = absurd (cc e)
    at f g (child_changed c) = same-count empty
    at f g (children_changed {ts = ts} {us = us} c) = list-count ts us c
    at f g list_changed = same-count empty

row-parameters : (t : Tree) → is_acted (kind_of t) ≡ true → value_parameters t ≡ empty
row-parameters (node FunctionExpression l fs) e = absurd (cc e)
row-parameters (node _ l fs) e = refl

left-parameters : (t : Tree) → is_left_kind (kind_of t) ≡ true → value_parameters t ≡ empty
left-parameters (node FunctionExpression l fs) e = absurd (cc e)
left-parameters (node _ l fs) e = refl

-- where it was no arrow that may become a function
value-count : {turns : Bool} (t u : Tree) → Changed turns t u → (turns ≡ true → same_type (kind_of t) ArrowFunctionExpression ≡ false) → SameCount (value_parameters t) (value_parameters u)
value-count t u stays d = same-count (value_parameters t)
value-count t u (row r l) d = record { none_there = ap (λ ts. is_empty ts) (left-parameters u l ∙ sym (row-parameters t r)); one_there = ap (λ ts. is_lone_parameter ts) (left-parameters u l ∙ sym (row-parameters t r)) }
value-count t u (function v) d = absurd (let x = d v in cc x)
value-count t u (named v) d = same-count empty
value-count t u (inside {k = FunctionExpression} {fs = fs} {gs = gs} c) d = second-list fs gs c
value-count t u (inside {k = _} c) d = same-count empty

second-count : {turns : Bool} (k : AstType) (fs gs : Fields) → is_hidden k ≡ false → ChangedFields turns k fs gs → (turns ≡ true → is_kind_within ArrowFunctionExpression (child_at 1 fs) ≡ false) → SameCount (field_parameters (second_field fs)) (field_parameters (second_field gs))
second-count k fs gs e ends d = same-count empty
second-count k fs gs e (more c ends) d = same-count empty
second-count {turns} k fs gs e (more c (more {f = f} {g = g} x cs)) d = at f g x d
  where
    at : (f g : Field) → ChangedField turns k f g → (turns ≡ true → is_kind_within ArrowFunctionExpression (only_child f) ≡ false) → SameCount (field_parameters f) (field_parameters g)
    at f g same_field d = same-count (field_parameters f)
    at f g (unseen h) d = absurd (cc (e, h))
    at f g (child_changed {t = t} {u = u} c) d = value-count t u c d
    at f g (children_changed c) d = same-count empty
    at f g list_changed d = same-count empty

accessor-same : {turns : Bool} (k : AstType) (l : Label) (fs gs : Fields) → is_hidden k ≡ false → ChangedFields turns k fs gs → (turns ≡ true → is_kind_within ArrowFunctionExpression (child_at 1 fs) ≡ false) → is_bad_accessor_of l gs ≡ is_bad_accessor_of l fs
accessor-same k l fs gs e c d =
    let s = second-count k fs gs e c d in
    let none_there : is_empty (parameters_in gs) ≡ is_empty (parameters_in fs) = ap (λ ts. is_empty ts) (parameters-are gs) ∙ s.none_there ∙ sym (ap (λ ts. is_empty ts) (parameters-are fs)) in
    let one_there : is_lone_parameter (parameters_in gs) ≡ is_lone_parameter (parameters_in fs) = ap (λ ts. is_lone_parameter ts) (parameters-are gs) ∙ s.one_there ∙ sym (ap (λ ts. is_lone_parameter ts) (parameters-are fs)) in
    λ i. (bytes_eq (first_text l.texts) (codes "get") && not (none_there i)) || (bytes_eq (first_text l.texts) (codes "set") && not (one_there i))

-- what is no accessor has no bad parameters
no-accessor : (l : Label) (fs : Fields) → is_accessor_word (first_text l.texts) ≡ false → is_bad_accessor_of l fs ≡ false
no-accessor l fs e = at (bytes_eq (first_text l.texts) (codes "get")) (bytes_eq (first_text l.texts) (codes "set")) _ _ e
  where
    at : (a b x y : Bool) → (a || b) ≡ false → ((a && x) || (b && y)) ≡ false
    at true b x y e = absurd (cc e)
    at false true x y e = absurd (cc e)
    at false false x y e = refl

and-right : (a b : Bool) → a ≡ true → (a && b) ≡ false → b ≡ false
and-right true b p e = e
and-right false b p e = absurd (cc p)

accessor-kept : {turns : Bool} (k : AstType) (l : Label) (fs gs : Fields) → EdgesIn stands k 0 fs → (turns ≡ true → is_arrow_accessor k l fs ≡ false) → ChangedFields turns k fs gs → is_bad_accessor (node k l fs) ≡ false → is_bad_accessor (node k l gs) ≡ false
accessor-kept MethodDefinition l fs gs a d c e = accessor-same MethodDefinition l fs gs refl c (λ v. no-arrow-method fs a) ∙ e
accessor-kept ObjectProperty l fs gs a d c e = at (is_accessor_word (first_text l.texts)) refl
  where
    at : (b : Bool) → is_accessor_word (first_text l.texts) ≡ b → is_bad_accessor_of l gs ≡ false
    at false p = no-accessor l gs p
    at true p = accessor-same ObjectProperty l fs gs refl c (λ v. and-right (is_accessor_word (first_text l.texts)) (is_kind_within ArrowFunctionExpression (child_at 1 fs)) p (d v)) ∙ e
accessor-kept _ l fs gs a d c e = refl

-- THE OTHERS

return-same : (up : List Ancestor) (k : AstType) (l : Label) (fs gs : Fields) → is_misplaced_return up (node k l gs) ≡ is_misplaced_return up (node k l fs)
return-same up ReturnStatement l fs gs = refl
return-same up _ l fs gs = refl

super-same : (up : List Ancestor) (k : AstType) (l : Label) (fs gs : Fields) → is_misplaced_super up (node k l gs) ≡ is_misplaced_super up (node k l fs)
super-same up Super l fs gs = refl
super-same up _ l fs gs = refl

meta-same : (up : List Ancestor) (k : AstType) (l : Label) (fs gs : Fields) → is_misplaced_meta up (node k l gs) ≡ is_misplaced_meta up (node k l fs)
meta-same up MetaProperty l fs gs = refl
meta-same up _ l fs gs = refl

own-label-same : (up : List Ancestor) (k : AstType) (l : Label) (fs gs : Fields) → is_duplicate_label up (node k l gs) ≡ is_duplicate_label up (node k l fs)
own-label-same up Identifier l fs gs = refl
own-label-same up _ l fs gs = refl

target-kept : {turns : Bool} (p : Place) (k : AstType) (l : Label) (fs gs : Fields) → ChangedFields turns k fs gs → is_bad_target p (node k l fs) ≡ false → is_bad_target p (node k l gs) ≡ false
target-kept (Target s) k l fs gs c e = at (list_any (same_type k) (own_kinds s)) (is_simple_target (kind_of (without_parens (node k l fs)))) (is_simple_target (kind_of (without_parens (node k l gs)))) (simple-kept (node k l fs) (node k l gs) (inside c)) e
  where
    at : (a b c : Bool) → (b ≡ true → c ≡ true) → not (a || b) ≡ false → not (a || c) ≡ false
    at true b c h e = refl
    at false b c h e = not-more b c h e
target-kept _ k l fs gs c e = refl

chain-kept : {turns : Bool} (k : AstType) (l : Label) (fs gs : Fields) → ChangedFields turns k fs gs → is_empty_chain (node k l fs) ≡ false → is_empty_chain (node k l gs) ≡ false
chain-kept ChainExpression l fs gs c e = not-more (has_optional_in fs) (has_optional_in gs) (optional-in ChainExpression fs gs refl c) e
chain-kept _ l fs gs c e = refl

mark-same : (p : Place) (k : AstType) (l : Label) (fs gs : Fields) → is_stray_optional p (node k l fs) ≡ false → is_stray_optional p (node k l gs) ≡ false
mark-same Spine k l fs gs e = refl
mark-same p k l fs gs e = e

and-less : (a b c : Bool) → (b ≡ false → c ≡ false) → (a && b) ≡ false → (a && c) ≡ false
and-less true b c h e = h e
and-less false b c h e = refl

-- where `this` stands there that may become a name, it's asked of what is left
delete-kept : {turns : Bool} (k : AstType) (l : Label) (fs gs : Fields) → (turns ≡ true → is_this_within (child_at 0 fs) ≡ true → is_bad_delete (node k l gs) ≡ false) → ChangedFields turns k fs gs → is_bad_delete (node k l fs) ≡ false → is_bad_delete (node k l gs) ≡ false
delete-kept {turns} UnaryExpression l fs gs d c e = at turns (is_this_within (child_at 0 fs)) refl refl
  where
    other : (turns ≡ true → is_this_within (child_at 0 fs) ≡ false) → is_bad_delete (node UnaryExpression l gs) ≡ false
    other h = and-less (bytes_eq (first_text l.texts) (codes "delete")) _ _ (within-kept UnaryExpression fs gs refl c h) e

    at : (a b : Bool) → turns ≡ a → is_this_within (child_at 0 fs) ≡ b → is_bad_delete (node UnaryExpression l gs) ≡ false
    at true true p q = d p q
    at true false p q = other (λ v. q)
    at false b p q = other (λ v. absurd (cc (p, v)))
delete-kept _ l fs gs d c e = refl

rest-kept : {turns : Bool} (up : List Ancestor) (k : AstType) (l : Label) (fs gs : Fields) → ChangedFields turns k fs gs → is_bad_rest up (node k l fs) ≡ false → is_bad_rest up (node k l gs) ≡ false
rest-kept [] k l fs gs c e = refl
rest-kept (a ∷ []) k l fs gs c e = refl
rest-kept (a ∷ (b ∷ up)) k l fs gs c e = at (leads_by RestElement 0 a && same_type b.kind ObjectPattern && not (same_type k Identifier)) (leads_by TargetRest 0 a && same_type b.kind ObjectTarget) (is_simple_target (kind_of (without_parens (node k l fs)))) (is_simple_target (kind_of (without_parens (node k l gs)))) (simple-kept (node k l fs) (node k l gs) (inside c)) e
  where
    at : (r s x y : Bool) → (x ≡ true → y ≡ true) → (r || (s && not x)) ≡ false → (r || (s && not y)) ≡ false
    at true s x y h e = absurd (cc e)
    at false true x y h e = not-more x y h e
    at false false x y h e = refl

-- ONE NODE

-- What is asked where arrows turn: no accessor's value is one, and what was `this`, maybe in parentheses, is no bad operand afterwards.
pub record Spared (k : AstType) (l : Label) (fs gs : Fields) : Type 0 where
  pub accessor : is_arrow_accessor k l fs ≡ false
  pub operand : is_this_within (child_at 0 fs) ≡ true → is_bad_delete (node k l gs) ≡ false

here-changed : {turns : Bool} (up : List Ancestor) (k : AstType) (l : Label) (fs gs : Fields) → EdgesIn stands k 0 fs → (turns ≡ true → Spared k l fs gs) → ChangedFields turns k fs gs → KeepsHere up (node k l fs) → KeepsHere up (node k l gs)
here-changed up k l fs gs e s c h = record {
  jump = jump-kept up k l fs gs e c h.jump;
  label = own-label-same up k l fs gs ∙ h.label;
  returned = return-same up k l fs gs ∙ h.returned;
  super_word = super-same up k l fs gs ∙ h.super_word;
  target = target-kept (place_of up) k l fs gs c h.target;
  chain = chain-kept k l fs gs c h.chain;
  mark = mark-same (place_of up) k l fs gs h.mark;
  deleted = delete-kept k l fs gs (λ v. (s v).operand) c h.deleted;
  value = value-kept (place_of up) k l fs gs e c h.value;
  using_word = using-kept up k l fs gs e c h.using_word;
  head = head-kept up k l fs gs e c h.head;
  item = h.item;
  accessor = accessor-kept k l fs gs e (λ v. (s v).accessor) c h.accessor;
  rest = rest-kept up k l fs gs c h.rest;
  declaration = h.declaration;
  meta = meta-same up k l fs gs ∙ h.meta;
}

-- where none does
pub here-kept : (up : List Ancestor) (k : AstType) (l : Label) (fs gs : Fields) → EdgesIn stands k 0 fs → ChangedFields false k fs gs → KeepsHere up (node k l fs) → KeepsHere up (node k l gs)
here-kept up k l fs gs e = here-changed up k l fs gs e (λ v. absurd (cc v))

-- WHAT IT OFFERS

derived-same : {turns : Bool} (k : AstType) (l : Label) (fs gs : Fields) (i : ℕ) → ChangedFields turns k fs gs → is_derived (ancestor k l gs i 0) ≡ is_derived (ancestor k l fs i 0)
derived-same ClassDeclaration l fs gs i c = child-kept ClassDeclaration 1 fs gs refl c
derived-same ClassExpression l fs gs i c = child-kept ClassExpression 1 fs gs refl c
derived-same _ l fs gs i c = refl

loop-body-same : {turns : Bool} (fs gs : Fields) → ChangedFields turns LabeledStatement fs gs → has_loop_body gs ≡ has_loop_body fs
loop-body-same fs gs ends = refl
loop-body-same fs gs (more c ends) = refl
loop-body-same fs gs (more c (more {f = missing} same_field cs)) = refl
loop-body-same fs gs (more c (more {f = one t} same_field cs)) = refl
loop-body-same fs gs (more c (more {f = many ts} same_field cs)) = refl
loop-body-same fs gs (more c (more {f = statements ts} same_field cs)) = refl
loop-body-same fs gs (more c (more (unseen e) cs)) = absurd (cc e)
loop-body-same fs gs (more c (more (child_changed {t = t} {u = u} d) cs)) = loop-same t u d
loop-body-same fs gs (more c (more (children_changed d) cs)) = refl
loop-body-same fs gs (more c (more list_changed cs)) = refl

labels-same : {turns : Bool} (k : AstType) (l : Label) (fs gs : Fields) (i : ℕ) → EdgesIn stands k 0 fs → ChangedFields turns k fs gs → own_labels (ancestor k l gs i 0) ≡ own_labels (ancestor k l fs i 0)
labels-same LabeledStatement l fs gs i h c = λ j. if i == 1 then record { name = name-same LabeledStatement fs gs refl h c j; loop = loop-body-same fs gs c j } ∷ [] else []
labels-same _ l fs gs i h c = refl

pub alike-changed : {turns : Bool} (k : AstType) (l : Label) (fs gs : Fields) → EdgesIn stands k 0 fs → ChangedFields turns k fs gs → (i : ℕ) → Alike (ancestor k l fs i 0) (ancestor k l gs i 0)
alike-changed k l fs gs h c i = record { kind = refl; label = refl; index = refl; labels = labels-same k l fs gs i h c; derived = derived-same k l fs gs i c }

-- THE NODE, and what is in its fields, which keeps the rules there before it changed
pub node-kept : {turns : Bool} (a : Sort) (up : List Ancestor) (k : AstType) (l : Label) (fs gs : Fields) → has_form a (node k l fs) ≡ true → (turns ≡ true → Spared k l fs gs) → ChangedFields turns k fs gs → KeepsHere up (node k l fs) → KeepsIn up k l fs 0 gs → Keeps up (node k l gs)
node-kept a up k l fs gs f s c h r =
    let stand = edges a k l fs f in
    let alike = alike-changed k l fs gs stand c in
    (here-changed up k l fs gs stand s c h, in-moved true up up k l fs gs 0 gs (λ j. offers-within true up up (ancestor k l fs j 0) (ancestor k l gs j 0) (alike j) (offers-self up) (λ e. absurd (cc e))) (λ j. near-within up up (ancestor k l fs j 0) (ancestor k l gs j 0) (alike j) (near-self up)) (λ e. absurd (cc e)) r)
