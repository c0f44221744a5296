-- A node whose fields have the same faces keeps the rules of places, and is the same to what stands in it.
use Rattle.std.proofs.Common.{◌≡◌, ◌==◌, ℕ, refl, sym, ap, subst, ◌∙◌, List, [], ◌∷◌}
use Rattle.std.specs.Prelude.{Bool, true, not, ◌&&◌, ◌||◌, bytes_eq, codes, if◌then◌else◌}
use Rattle.std.specs.List.{list_any}
use Rattle.std.proofs.lemmas.Bool.{and_from, and_parts}
use Rattle.es_tree.specs.Ancestors.{Ancestor, ancestor, has_loop_body, is_derived, is_script_top, labels, leads_by, own_labels, place_of, stands_in}
use Rattle.es_tree.specs.CoreStaticRules.{is_bad_delete, is_bad_target, is_empty_chain, is_missing_init, is_simple_target, is_stray_optional}
use Rattle.es_tree.specs.HasForm.{same_type}
use Rattle.es_tree.specs.Names.{first_text}
use Rattle.es_tree.specs.Parens.{without_parens}
use Rattle.es_tree.specs.Scopes.{name_in, own_text}
use Rattle.es_tree.specs.StaticRules.{binds_name, has_pattern, has_value, is_bad_accessor, is_bad_accessor_of, is_bad_for, is_bad_rest, is_bad_using, is_duplicate_label, is_label, is_lone_declarator, is_loop_label, is_misplaced_meta, is_misplaced_return, is_misplaced_super, is_missing_label}
use Rattle.es_tree.specs.Table.{own_kinds}
use Rattle.es_tree.specs.Tree.{Tree, node, Label, Fields, done, ◌then◌, missing, one, many, statements, Trees, empty, ◌before◌, kind_of}
use Rattle.es_tree.specs.declared.ast_type.AstType.{AstType}
use Rattle.es_tree.specs.declared.ast_type.AstType.TheVariants.{BreakStatement, ChainExpression, ClassDeclaration, ClassExpression, ContinueStatement, ExportNamedDeclaration, ForInStatement, ForOfStatement, Identifier, LabeledStatement, MetaProperty, MethodDefinition, ObjectPattern, ObjectProperty, ObjectTarget, ParenthesizedExpression, RestElement, ReturnStatement, Super, TargetRest, UnaryExpression, VariableDeclaration, VariableDeclarator}
use Rattle.es_tree.specs.declared.place.Place.{Place}
use Rattle.es_tree.specs.declared.place.Place.TheVariants.{Declarator, Spine, Target}
use Rattle.es_semantic.proofs.FormEdges.{EdgesAll, EdgesIn}
use Rattle.es_valid_steps.specs.PlaceRules.{KeepsHere}
use Rattle.es_valid_steps.proofs.Edges.{declarator-kind, stands}
use Rattle.es_valid_steps.proofs.Offers.{Alike}
use Rattle.es_valid_rests.proofs.Faces.{face, face-child, face-count, face-kept, face-name, face_fields, face_trees, loop-same, optional-in, simple-same}

-- NAMES OF LABELS

label-same : (fs : Fields) → name_in (face_fields fs) ≡ name_in fs
label-same done = refl
label-same (missing then fs) = refl
label-same (one (node k l gs) then fs) = refl
label-same (many ts then fs) = refl
label-same (statements ts then fs) = refl

text-same : (t : Tree) → own_text (face t) ≡ own_text t
text-same (node k l fs) = refl

jump-same : (up : List Ancestor) (k : AstType) (l : Label) (fs : Fields) → is_missing_label up (node k l (face_fields fs)) ≡ is_missing_label up (node k l fs)
jump-same up BreakStatement l done = refl
jump-same up BreakStatement l (missing then fs) = refl
jump-same up BreakStatement l (one t then fs) = ap (λ x. not (list_any (is_label x) (labels up))) (text-same t)
jump-same up BreakStatement l (many ts then fs) = refl
jump-same up BreakStatement l (statements ts then fs) = refl
jump-same up ContinueStatement l done = refl
jump-same up ContinueStatement l (missing then fs) = refl
jump-same up ContinueStatement l (one t then fs) = ap (λ x. not (list_any (is_loop_label x) (labels up))) (text-same t)
jump-same up ContinueStatement l (many ts then fs) = refl
jump-same up ContinueStatement l (statements ts then fs) = refl
jump-same up _ l fs = refl

-- DECLARATORS

-- a list of declarators alone
abbrev are_declarators : Trees → Bool
are_declarators empty = true
are_declarators (t before ts) = same_type (kind_of t) VariableDeclarator && are_declarators ts

edges-declarators : (ts : Trees) → EdgesAll stands VariableDeclaration 0 ts → are_declarators ts ≡ true
edges-declarators empty h = refl
edges-declarators (t before ts) h = and_from (same_type (kind_of t) VariableDeclarator) (are_declarators ts) (ap (λ k. same_type k VariableDeclarator) (declarator-kind t h.0)) (edges-declarators ts h.1)

declarators-same : (ts : Trees) → are_declarators (face_trees ts) ≡ are_declarators ts
declarators-same empty = refl
declarators-same (node k l fs before ts) = ap (λ b. same_type k VariableDeclarator && b) (declarators-same ts)

record SameDeclarator (t : Tree) : Type 0 where
  name : binds_name (face t) ≡ binds_name t
  value : has_value (face t) ≡ has_value t

declarator-same : (t : Tree) → same_type (kind_of t) VariableDeclarator ≡ true → SameDeclarator t
declarator-same (node VariableDeclarator l fs) e = record { name = face-name 0 fs; value = face-child 1 fs }
declarator-same (node _ l fs) e = absurd (cc e)

pattern-same : (ts : Trees) → are_declarators ts ≡ true → has_pattern (face_trees ts) ≡ has_pattern ts
pattern-same empty h = refl
pattern-same (t before ts) h =
    let parts = and_parts (same_type (kind_of t) VariableDeclarator) (are_declarators ts) h in
    λ i. not ((declarator-same t parts.0).name i) || pattern-same ts parts.1 i

lone-same : (ts : Trees) → are_declarators ts ≡ true → is_lone_declarator (face_trees ts) ≡ is_lone_declarator ts
lone-same empty h = refl
lone-same (t before empty) h = ap (λ b. not b) (declarator-same t (and_parts (same_type (kind_of t) VariableDeclarator) true h).0).value
lone-same (t before (u before us)) h = refl

-- what is declared in the first field
abbrev declares_alone : AstType → Fields → Bool
declares_alone VariableDeclaration (many ts then fs) = are_declarators ts
declares_alone k fs = true

edges-alone : (k : AstType) (fs : Fields) → EdgesIn stands k 0 fs → declares_alone k fs ≡ true
edges-alone VariableDeclaration (many ts then fs) h = edges-declarators ts h.0
edges-alone VariableDeclaration done h = refl
edges-alone VariableDeclaration (missing then fs) h = refl
edges-alone VariableDeclaration (one t then fs) h = refl
edges-alone VariableDeclaration (statements ts then fs) h = refl
edges-alone _ fs h = refl

alone-same : (k : AstType) (fs : Fields) → declares_alone k (face_fields fs) ≡ declares_alone k fs
alone-same VariableDeclaration (many ts then fs) = declarators-same ts
alone-same VariableDeclaration done = refl
alone-same VariableDeclaration (missing then fs) = refl
alone-same VariableDeclaration (one t then fs) = refl
alone-same VariableDeclaration (statements ts then fs) = refl
alone-same _ fs = refl

using-same : (up : List Ancestor) (k : AstType) (l : Label) (fs : Fields) → declares_alone k fs ≡ true → is_bad_using up (node k l (face_fields fs)) ≡ is_bad_using up (node k l fs)
using-same up VariableDeclaration l (many ts then fs) h = ap (λ b. bytes_eq (first_text l.texts) (codes "using") && (b || is_script_top up || stands_in ForInStatement 0 up || stands_in ExportNamedDeclaration 0 up)) (pattern-same ts h)
using-same up VariableDeclaration l done h = refl
using-same up VariableDeclaration l (missing then fs) h = refl
using-same up VariableDeclaration l (one t then fs) h = refl
using-same up VariableDeclaration l (statements ts then fs) h = refl
using-same up _ l fs h = refl

head-same : (up : List Ancestor) (k : AstType) (l : Label) (fs : Fields) → declares_alone k fs ≡ true → is_bad_for up (node k l (face_fields fs)) ≡ is_bad_for up (node k l fs)
head-same up VariableDeclaration l (many ts then fs) h = ap (λ b. (stands_in ForInStatement 0 up || stands_in ForOfStatement 0 up) && not b) (lone-same ts h)
head-same up VariableDeclaration l done h = refl
head-same up VariableDeclaration l (missing then fs) h = refl
head-same up VariableDeclaration l (one t then fs) h = refl
head-same up VariableDeclaration l (statements ts then fs) h = refl
head-same up _ l fs h = refl

value-same : (p : Place) (k : AstType) (l : Label) (fs : Fields) → is_missing_init p (node k l (face_fields fs)) ≡ is_missing_init p (node k l fs)
value-same (Declarator top lexical constant) VariableDeclarator l fs = λ i. (constant || not (face-name 0 fs i)) && not (face-child 1 fs i)
value-same _ VariableDeclarator l fs = refl
value-same p _ l fs = refl

-- THE OTHERS

accessor-same : (k : AstType) (l : Label) (fs : Fields) → is_bad_accessor (node k l (face_fields fs)) ≡ is_bad_accessor (node k l fs)
accessor-same k l fs = at k
  where
    of-parameters : is_bad_accessor_of l (face_fields fs) ≡ is_bad_accessor_of l fs
    of-parameters = let s = face-count fs in λ i. (bytes_eq (first_text l.texts) (codes "get") && not (s.none i)) || (bytes_eq (first_text l.texts) (codes "set") && not (s.lone i))

    at : (k : AstType) → is_bad_accessor (node k l (face_fields fs)) ≡ is_bad_accessor (node k l fs)
    at MethodDefinition = of-parameters
    at ObjectProperty = of-parameters
    at _ = refl

return-same : (up : List Ancestor) (k : AstType) (l : Label) (fs : Fields) → is_misplaced_return up (node k l (face_fields fs)) ≡ is_misplaced_return up (node k l fs)
return-same up ReturnStatement l fs = refl
return-same up _ l fs = refl

super-same : (up : List Ancestor) (k : AstType) (l : Label) (fs : Fields) → is_misplaced_super up (node k l (face_fields fs)) ≡ is_misplaced_super up (node k l fs)
super-same up Super l fs = refl
super-same up _ l fs = refl

meta-same : (up : List Ancestor) (k : AstType) (l : Label) (fs : Fields) → is_misplaced_meta up (node k l (face_fields fs)) ≡ is_misplaced_meta up (node k l fs)
meta-same up MetaProperty l fs = refl
meta-same up _ l fs = refl

own-label-same : (up : List Ancestor) (k : AstType) (l : Label) (fs : Fields) → is_duplicate_label up (node k l (face_fields fs)) ≡ is_duplicate_label up (node k l fs)
own-label-same up Identifier l fs = refl
own-label-same up _ l fs = refl

-- what a node with the faces of its fields is as a target
node-simple : (k : AstType) (l : Label) (fs : Fields) → is_simple_target (kind_of (without_parens (node k l (face_fields fs)))) ≡ is_simple_target (kind_of (without_parens (node k l fs)))
node-simple ParenthesizedExpression l (one t then fs) = simple-same t
node-simple ParenthesizedExpression l done = refl
node-simple ParenthesizedExpression l (missing then fs) = refl
node-simple ParenthesizedExpression l (many ts then fs) = refl
node-simple ParenthesizedExpression l (statements ts then fs) = refl
node-simple _ l fs = refl

target-same : (p : Place) (k : AstType) (l : Label) (fs : Fields) → is_bad_target p (node k l (face_fields fs)) ≡ is_bad_target p (node k l fs)
target-same (Target s) k l fs = ap (λ b. not (list_any (same_type k) (own_kinds s) || b)) (node-simple k l fs)
target-same _ k l fs = refl

chain-same : (k : AstType) (l : Label) (fs : Fields) → is_empty_chain (node k l (face_fields fs)) ≡ is_empty_chain (node k l fs)
chain-same ChainExpression l fs = ap (λ b. not b) (optional-in fs)
chain-same _ l fs = refl

mark-same : (p : Place) (k : AstType) (l : Label) (fs : Fields) → is_stray_optional p (node k l (face_fields fs)) ≡ is_stray_optional p (node k l fs)
mark-same Spine k l fs = refl
mark-same _ k l fs = refl

delete-same : (k : AstType) (l : Label) (fs : Fields) → is_bad_delete (node k l (face_fields fs)) ≡ is_bad_delete (node k l fs)
delete-same UnaryExpression l fs = ap (λ b. bytes_eq (first_text l.texts) (codes "delete") && b) (face-kept 0 fs)
delete-same _ l fs = refl

rest-same : (up : List Ancestor) (k : AstType) (l : Label) (fs : Fields) → is_bad_rest up (node k l (face_fields fs)) ≡ is_bad_rest up (node k l fs)
rest-same [] k l fs = refl
rest-same (a ∷ []) k l fs = refl
rest-same (a ∷ (b ∷ up)) k l fs = ap (λ c. (leads_by RestElement 0 a && same_type b.kind ObjectPattern && not (same_type k Identifier)) || (leads_by TargetRest 0 a && same_type b.kind ObjectTarget && not c)) (node-simple k l fs)

-- ONE NODE

module _ (up : List Ancestor) (k : AstType) (l : Label) (fs : Fields) (e : declares_alone k fs ≡ true) where
  to-face : KeepsHere up (node k l fs) → KeepsHere up (node k l (face_fields fs))
  to-face h = record {
    jump = jump-same up k l fs ∙ h.jump;
    label = own-label-same up k l fs ∙ h.label;
    returned = return-same up k l fs ∙ h.returned;
    super_word = super-same up k l fs ∙ h.super_word;
    target = target-same (place_of up) k l fs ∙ h.target;
    chain = chain-same k l fs ∙ h.chain;
    mark = mark-same (place_of up) k l fs ∙ h.mark;
    deleted = delete-same k l fs ∙ h.deleted;
    value = value-same (place_of up) k l fs ∙ h.value;
    using_word = using-same up k l fs e ∙ h.using_word;
    head = head-same up k l fs e ∙ h.head;
    item = h.item;
    accessor = accessor-same k l fs ∙ h.accessor;
    rest = rest-same up k l fs ∙ h.rest;
    declaration = h.declaration;
    meta = meta-same up k l fs ∙ h.meta;
  }

  from-face : KeepsHere up (node k l (face_fields fs)) → KeepsHere up (node k l fs)
  from-face h = record {
    jump = sym (jump-same up k l fs) ∙ h.jump;
    label = sym (own-label-same up k l fs) ∙ h.label;
    returned = sym (return-same up k l fs) ∙ h.returned;
    super_word = sym (super-same up k l fs) ∙ h.super_word;
    target = sym (target-same (place_of up) k l fs) ∙ h.target;
    chain = sym (chain-same k l fs) ∙ h.chain;
    mark = sym (mark-same (place_of up) k l fs) ∙ h.mark;
    deleted = sym (delete-same k l fs) ∙ h.deleted;
    value = sym (value-same (place_of up) k l fs) ∙ h.value;
    using_word = sym (using-same up k l fs e) ∙ h.using_word;
    head = sym (head-same up k l fs e) ∙ h.head;
    item = h.item;
    accessor = sym (accessor-same k l fs) ∙ h.accessor;
    rest = sym (rest-same up k l fs) ∙ h.rest;
    declaration = h.declaration;
    meta = sym (meta-same up k l fs) ∙ h.meta;
  }

pub here-faced : (up : List Ancestor) (k : AstType) (l : Label) (fs gs : Fields) → EdgesIn stands k 0 fs → face_fields fs ≡ face_fields gs → KeepsHere up (node k l fs) → KeepsHere up (node k l gs)
here-faced up k l fs gs edges e h =
    let before_it = edges-alone k fs edges in
    let after_it : declares_alone k gs ≡ true = sym (alone-same k gs) ∙ ap (λ hs. declares_alone k hs) (sym e) ∙ alone-same k fs ∙ before_it in
    from-face up k l gs after_it (subst (λ (hs : Fields). KeepsHere up (node k l hs)) e (to-face up k l fs before_it h))

-- WHAT IT OFFERS

derived-same : (k : AstType) (l : Label) (fs : Fields) (i : ℕ) → is_derived (ancestor k l (face_fields fs) i 0) ≡ is_derived (ancestor k l fs i 0)
derived-same ClassDeclaration l fs i = face-child 1 fs
derived-same ClassExpression l fs i = face-child 1 fs
derived-same _ l fs i = refl

loop-body-same : (fs : Fields) → has_loop_body (face_fields fs) ≡ has_loop_body fs
loop-body-same done = refl
loop-body-same (n then done) = refl
loop-body-same (n then (missing then fs)) = refl
loop-body-same (n then (one t then fs)) = loop-same t
loop-body-same (n then (many ts then fs)) = refl
loop-body-same (n then (statements ts then fs)) = refl

labels-same : (k : AstType) (l : Label) (fs : Fields) (i : ℕ) → own_labels (ancestor k l (face_fields fs) i 0) ≡ own_labels (ancestor k l fs i 0)
labels-same LabeledStatement l fs i = λ j. if i == 1 then record { name = label-same fs j; loop = loop-body-same fs j } ∷ [] else []
labels-same _ l fs i = refl

pub alike-faced : (k : AstType) (l : Label) (fs gs : Fields) → face_fields fs ≡ face_fields gs → (i : ℕ) → Alike (ancestor k l fs i 0) (ancestor k l gs i 0)
alike-faced k l fs gs e i = record {
  kind = refl;
  label = refl;
  index = refl;
  labels = sym (labels-same k l gs i) ∙ ap (λ hs. own_labels (ancestor k l hs i 0)) (sym e) ∙ labels-same k l fs i;
  derived = sym (derived-same k l gs i) ∙ ap (λ hs. is_derived (ancestor k l hs i 0)) (sym e) ∙ derived-same k l fs i;
}
