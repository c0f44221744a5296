-- A node in which parts of calls gave way to names keeps the rules of places, and is the same to what stands in it.
use Rattle.std.proofs.Common.{◌≡◌, ◌==◌, ℕ, refl, ap, ◌∙◌, List, [], ◌∷◌}
use Rattle.std.specs.Prelude.{Bool, true, not, ◌&&◌, ◌||◌, bytes_eq, codes, if◌then◌else◌}
use Rattle.std.specs.List.{list_any}
use Rattle.std.proofs.lemmas.Bool.{and_from, and_parts}
use Rattle.es_tree.specs.Ancestors.{Ancestor, ancestor, is_derived, is_script_top, labels, leads_by, own_labels, place_of, stands_in}
use Rattle.es_tree.specs.CoreStaticRules.{is_bad_delete, is_bad_target, is_empty_chain, is_missing_init, is_simple_target, is_stray_optional}
use Rattle.es_tree.specs.HasForm.{same_type}
use Rattle.es_tree.specs.Names.{first_text}
use Rattle.es_tree.specs.Parens.{without_parens}
use Rattle.es_tree.specs.StaticRules.{binds_name, has_pattern, has_value, is_bad_accessor, is_bad_accessor_of, is_bad_for, is_bad_rest, is_bad_using, is_duplicate_label, is_label, is_lone_declarator, is_loop_label, is_misplaced_meta, is_misplaced_return, is_misplaced_super, is_missing_label}
use Rattle.es_tree.specs.Table.{own_kinds}
use Rattle.es_tree.specs.Tree.{Tree, node, Label, Fields, done, ◌then◌, missing, one, many, statements, Trees, empty, ◌before◌, kind_of}
use Rattle.es_tree.specs.declared.ast_type.AstType.{AstType}
use Rattle.es_tree.specs.declared.ast_type.AstType.TheVariants.{BreakStatement, ChainExpression, ClassDeclaration, ClassExpression, ContinueStatement, ExportNamedDeclaration, ForInStatement, ForOfStatement, Identifier, LabeledStatement, MetaProperty, MethodDefinition, ObjectPattern, ObjectProperty, ObjectTarget, RestElement, ReturnStatement, Super, TargetRest, UnaryExpression, VariableDeclaration, VariableDeclarator}
use Rattle.es_tree.specs.declared.place.Place.{Place}
use Rattle.es_tree.specs.declared.place.Place.TheVariants.{Declarator, Spine, Target}
use Rattle.es_resolution.specs.Declarations.{Bound}
use Rattle.es_semantic.proofs.FormEdges.{EdgesAll, EdgesIn}
use Rattle.es_valid_steps.specs.PlaceRules.{KeepsHere}
use Rattle.es_valid_steps.proofs.Edges.{declarator-kind, stands}
use Rattle.es_valid_steps.proofs.Offers.{Alike}
use Rattle.es_helper_calls.proofs.CallNodes.{has-child-now, inner-kind-now, kept-child-now, loop-body-now, name-child-now, name-now, no-parameter-now, one-parameter-now, optional-in-now, text-now}
use Rattle.es_helper_calls.proofs.CalledTrees.{Calls, CallsAll, CallsHere, CallsIn}
use Rattle.es_helper_calls.proofs.CalledTrees.Calls.{becomes}
use Rattle.es_helper_calls.proofs.CalledTrees.CallsAll.{next, none}
use Rattle.es_helper_calls.proofs.CalledTrees.CallsBy.{at_many, at_one}
use Rattle.es_helper_calls.proofs.CalledTrees.CallsHere.{stays}
use Rattle.es_helper_calls.proofs.CalledTrees.CallsIn.{goes}

-- a list of declarators alone
abbrev are_declarators : Trees → Bool
are_declarators empty = true
are_declarators (t before ts) = same_type (kind_of t) VariableDeclarator && are_declarators ts

edges-declarators : (ts : Trees) → EdgesAll stands VariableDeclaration 0 ts → are_declarators ts ≡ true
edges-declarators empty h = refl
edges-declarators (t before ts) h = and_from (same_type (kind_of t) VariableDeclarator) (are_declarators ts) (ap (λ k. same_type k VariableDeclarator) (declarator-kind t h.0)) (edges-declarators ts h.1)

-- what is declared in the first field
abbrev declares_alone : AstType → Fields → Bool
declares_alone VariableDeclaration (many ts then fs) = are_declarators ts
declares_alone k fs = true

edges-alone : (k : AstType) (fs : Fields) → EdgesIn stands k 0 fs → declares_alone k fs ≡ true
edges-alone VariableDeclaration (many ts then fs) h = edges-declarators ts h.0
edges-alone VariableDeclaration done h = refl
edges-alone VariableDeclaration (missing then fs) h = refl
edges-alone VariableDeclaration (one t then fs) h = refl
edges-alone VariableDeclaration (statements ts then fs) h = refl
edges-alone _ fs h = refl

module _ (P : Tree → Bound → Type 0) where
  jump-same : (up : List Ancestor) (k : AstType) (l : Label) {fs gs : Fields} → CallsHere P k l fs gs → is_missing_label up (node k l gs) ≡ is_missing_label up (node k l fs)
  jump-same up BreakStatement l (stays (goes (at_one k) h)) = ap (λ x. not (list_any (is_label x) (labels up))) (text-now P k)
  jump-same up BreakStatement l (stays h) = refl
  jump-same up ContinueStatement l (stays (goes (at_one k) h)) = ap (λ x. not (list_any (is_loop_label x) (labels up))) (text-now P k)
  jump-same up ContinueStatement l (stays h) = refl
  jump-same up _ l h = refl

  -- DECLARATORS

  record SameDeclarator (t u : Tree) : Type 0 where
    name : binds_name u ≡ binds_name t
    value : has_value u ≡ has_value t

  declarator-same : {t u : Tree} → Calls P t u → same_type (kind_of t) VariableDeclarator ≡ true → SameDeclarator t u
  declarator-same (becomes {k = VariableDeclarator} (stays h)) e = record { name = name-child-now P 0 h; value = has-child-now P 1 h }
  declarator-same (becomes h) e = absurd (cc e)

  pattern-same : {ts us : Trees} → CallsAll P ts us → are_declarators ts ≡ true → has_pattern us ≡ has_pattern ts
  pattern-same none e = refl
  pattern-same (next {t = t} {ts = ts} k h) e =
      let parts = and_parts (same_type (kind_of t) VariableDeclarator) (are_declarators ts) e in
      λ i. not ((declarator-same k parts.0).name i) || pattern-same h parts.1 i

  lone-same : {ts us : Trees} → CallsAll P ts us → are_declarators ts ≡ true → is_lone_declarator us ≡ is_lone_declarator ts
  lone-same none e = refl
  lone-same (next {t = t} k none) e = ap (λ b. not b) (declarator-same k (and_parts (same_type (kind_of t) VariableDeclarator) true e).0).value
  lone-same (next k (next j h)) e = refl

  using-same : (up : List Ancestor) (k : AstType) (l : Label) {fs gs : Fields} → CallsHere P k l fs gs → declares_alone k fs ≡ true → is_bad_using up (node k l gs) ≡ is_bad_using up (node k l fs)
  using-same up VariableDeclaration l (stays (goes (at_many k) h)) e = ap (λ b. bytes_eq (first_text l.texts) (codes "using") && (b || is_script_top up || stands_in ForInStatement 0 up || stands_in ExportNamedDeclaration 0 up)) (pattern-same k e)
  using-same up VariableDeclaration l (stays h) e = refl
  using-same up _ l h e = refl

  head-same : (up : List Ancestor) (k : AstType) (l : Label) {fs gs : Fields} → CallsHere P k l fs gs → declares_alone k fs ≡ true → is_bad_for up (node k l gs) ≡ is_bad_for up (node k l fs)
  head-same up VariableDeclaration l (stays (goes (at_many k) h)) e = ap (λ b. (stands_in ForInStatement 0 up || stands_in ForOfStatement 0 up) && not b) (lone-same k e)
  head-same up VariableDeclaration l (stays h) e = refl
  head-same up _ l h e = refl

  value-same : (p : Place) (k : AstType) (l : Label) {fs gs : Fields} → CallsHere P k l fs gs → is_missing_init p (node k l gs) ≡ is_missing_init p (node k l fs)
  value-same (Declarator top lexical constant) VariableDeclarator l (stays h) = λ i. (constant || not (name-child-now P 0 h i)) && not (has-child-now P 1 h i)
  value-same _ VariableDeclarator l h = refl
  value-same p _ l h = refl

  -- THE OTHERS

  parameters-same : (l : Label) {fs gs : Fields} → CallsIn P fs gs → is_bad_accessor_of l gs ≡ is_bad_accessor_of l fs
  parameters-same l h = λ i. (bytes_eq (first_text l.texts) (codes "get") && not (no-parameter-now P h i)) || (bytes_eq (first_text l.texts) (codes "set") && not (one-parameter-now P h i))

  accessor-same : (k : AstType) (l : Label) {fs gs : Fields} → CallsHere P k l fs gs → is_bad_accessor (node k l gs) ≡ is_bad_accessor (node k l fs)
  accessor-same MethodDefinition l (stays h) = parameters-same l h
  accessor-same ObjectProperty l (stays h) = parameters-same l h
  accessor-same _ l h = refl

  return-same : (up : List Ancestor) (k : AstType) (l : Label) (fs gs : Fields) → is_misplaced_return up (node k l gs) ≡ is_misplaced_return up (node k l fs)
  return-same up ReturnStatement l fs gs = refl
  return-same up _ l fs gs = refl

  super-same : (up : List Ancestor) (k : AstType) (l : Label) (fs gs : Fields) → is_misplaced_super up (node k l gs) ≡ is_misplaced_super up (node k l fs)
  super-same up Super l fs gs = refl
  super-same up _ l fs gs = refl

  meta-same : (up : List Ancestor) (k : AstType) (l : Label) (fs gs : Fields) → is_misplaced_meta up (node k l gs) ≡ is_misplaced_meta up (node k l fs)
  meta-same up MetaProperty l fs gs = refl
  meta-same up _ l fs gs = refl

  own-label-same : (up : List Ancestor) (k : AstType) (l : Label) (fs gs : Fields) → is_duplicate_label up (node k l gs) ≡ is_duplicate_label up (node k l fs)
  own-label-same up Identifier l fs gs = refl
  own-label-same up _ l fs gs = refl

  -- what it is as a target
  node-simple : (k : AstType) (l : Label) {fs gs : Fields} → CallsHere P k l fs gs → is_simple_target (kind_of (without_parens (node k l gs))) ≡ is_simple_target (kind_of (without_parens (node k l fs)))
  node-simple k l h = ap (λ j. is_simple_target j) (inner-kind-now P (becomes h))

  target-same : (p : Place) (k : AstType) (l : Label) {fs gs : Fields} → CallsHere P k l fs gs → is_bad_target p (node k l gs) ≡ is_bad_target p (node k l fs)
  target-same (Target s) k l h = ap (λ b. not (list_any (same_type k) (own_kinds s) || b)) (node-simple k l h)
  target-same _ k l h = refl

  chain-same : (k : AstType) (l : Label) {fs gs : Fields} → CallsHere P k l fs gs → is_empty_chain (node k l gs) ≡ is_empty_chain (node k l fs)
  chain-same ChainExpression l (stays h) = ap (λ b. not b) (optional-in-now P h)
  chain-same _ l h = refl

  mark-same : (p : Place) (k : AstType) (l : Label) (fs gs : Fields) → is_stray_optional p (node k l gs) ≡ is_stray_optional p (node k l fs)
  mark-same Spine k l fs gs = refl
  mark-same _ k l fs gs = refl

  delete-same : (k : AstType) (l : Label) {fs gs : Fields} → CallsHere P k l fs gs → is_bad_delete (node k l gs) ≡ is_bad_delete (node k l fs)
  delete-same UnaryExpression l (stays h) = ap (λ b. bytes_eq (first_text l.texts) (codes "delete") && b) (kept-child-now P 0 h)
  delete-same _ l h = refl

  rest-same : (up : List Ancestor) (k : AstType) (l : Label) {fs gs : Fields} → CallsHere P k l fs gs → is_bad_rest up (node k l gs) ≡ is_bad_rest up (node k l fs)
  rest-same [] k l h = refl
  rest-same (a ∷ []) k l h = refl
  rest-same (a ∷ (b ∷ up)) k l h = ap (λ v. (leads_by RestElement 0 a && same_type b.kind ObjectPattern && not (same_type k Identifier)) || (leads_by TargetRest 0 a && same_type b.kind ObjectTarget && not v)) (node-simple k l h)

  -- ONE NODE

  pub here-now : (up : List Ancestor) (k : AstType) (l : Label) {fs gs : Fields} → CallsHere P k l fs gs → EdgesIn stands k 0 fs → KeepsHere up (node k l fs) → KeepsHere up (node k l gs)
  here-now up k l {fs} {gs} c edges h =
      let e = edges-alone k fs edges in
      record {
        jump = jump-same up k l c ∙ h.jump;
        label = own-label-same up k l fs gs ∙ h.label;
        returned = return-same up k l fs gs ∙ h.returned;
        super_word = super-same up k l fs gs ∙ h.super_word;
        target = target-same (place_of up) k l c ∙ h.target;
        chain = chain-same k l c ∙ h.chain;
        mark = mark-same (place_of up) k l fs gs ∙ h.mark;
        deleted = delete-same k l c ∙ h.deleted;
        value = value-same (place_of up) k l c ∙ h.value;
        using_word = using-same up k l c e ∙ h.using_word;
        head = head-same up k l c e ∙ h.head;
        item = h.item;
        accessor = accessor-same k l c ∙ h.accessor;
        rest = rest-same up k l c ∙ h.rest;
        declaration = h.declaration;
        meta = meta-same up k l fs gs ∙ h.meta;
      }

  -- WHAT IT OFFERS

  derived-same : (k : AstType) (l : Label) {fs gs : Fields} → CallsHere P k l fs gs → (i : ℕ) → is_derived (ancestor k l gs i 0) ≡ is_derived (ancestor k l fs i 0)
  derived-same ClassDeclaration l (stays h) i = has-child-now P 1 h
  derived-same ClassExpression l (stays h) i = has-child-now P 1 h
  derived-same _ l h i = refl

  labels-same : (k : AstType) (l : Label) {fs gs : Fields} → CallsHere P k l fs gs → (i : ℕ) → own_labels (ancestor k l gs i 0) ≡ own_labels (ancestor k l fs i 0)
  labels-same LabeledStatement l (stays h) i = λ j. if i == 1 then record { name = name-now P h j; loop = loop-body-now P h j } ∷ [] else []
  labels-same _ l h i = refl

  pub alike-now : (k : AstType) (l : Label) {fs gs : Fields} → CallsHere P k l fs gs → (i : ℕ) → Alike (ancestor k l fs i 0) (ancestor k l gs i 0)
  alike-now k l h i = record { kind = refl; label = refl; index = refl; labels = labels-same k l h i; derived = derived-same k l h i }
