-- Frames: the statements in whose fields other statements stand by themselves, and what a `try` has. No static rule of places asks what
-- stands in them, but for the label of a labelled statement, and whether that is a loop.
use Rattle.std.proofs.Common.{◌≡◌, ◌==◌, ℕ, zero, suc, refl, sym, ap, ◌∙◌, List, [], ◌∷◌}
use Rattle.std.specs.Prelude.{Bool, true, false, not, ◌&&◌, ◌||◌, is_some, if◌then◌else◌, bytes_eq, codes}
use Rattle.std.specs.List.{list_all, list_any}
use Rattle.std.proofs.lemmas.Bool.{and_parts}
use Rattle.es_tree.specs.Ancestors.{Ancestor, ancestor, has_loop_body, is_class, is_derived, is_derived_constructor, is_module_top, leads_by, own_labels, place_of}
use Rattle.es_tree.specs.Children.{child_at}
use Rattle.es_tree.specs.CoreStaticRules.{binding_place, declarator_place, is_bad_delete, is_bad_target, is_empty_chain, is_missing_init, is_optional, is_simple_target, link_place, place_in}
use Rattle.es_tree.specs.HasForm.{is_of_sort, same_type}
use Rattle.es_tree.specs.Names.{first_text}
use Rattle.es_tree.specs.Parens.{without_parens}
use Rattle.es_tree.specs.Scopes.{name_in}
use Rattle.es_tree.specs.StaticRules.{is_bad_accessor, is_bad_for, is_bad_rest, is_bad_using, is_declaration, is_duplicate_label, is_lone_body, is_misplaced_meta, is_misplaced_return, is_misplaced_super, is_missing_label, is_module_item}
use Rattle.es_tree.specs.Table.{own_kinds}
use Rattle.es_tree.specs.Tree.{Tree, node, Label, Fields, kind_of}
use Rattle.es_tree.specs.Words.{Text}
use Rattle.es_tree.specs.declared.ast_type.AstType.{AstType}
use Rattle.es_tree.specs.declared.ast_type.AstType.TheVariants.{ArrayTarget, AssignmentExpression, BlockStatement, CallExpression, CatchClause, ChainExpression, DoWhileStatement, ForInStatement, ForOfStatement, ForStatement, Identifier, IfStatement, LabeledStatement, MemberExpression, MethodDefinition, ObjectPattern, ObjectTarget, Program, RestElement, SwitchStatement, TargetProperty, TargetRest, TargetWithDefault, TryStatement, UpdateExpression, VariableDeclaration, VariableDeclarator, WhileStatement}
use Rattle.es_tree.specs.declared.place.Place.{Place}
use Rattle.es_tree.specs.declared.place.Place.TheVariants.{Declarator, ProgramBody, Spine, Target}
use Rattle.es_tree.specs.declared.table.Sort.{Sort}
use Rattle.es_tree.specs.declared.table.Sort.TheVariants.{AssignmentTarget as s-AssignmentTarget, Expression as s-Expression}
use Rattle.es_semantic.proofs.FormEdges.{same-kind}
use Rattle.es_valid_steps.specs.PlaceRules.{KeepsHere}
use Rattle.es_valid_steps.proofs.Free.{unmarked}
use Rattle.es_valid_steps.proofs.Offers.{Alike}

-- KINDS

abbrev pub frame_kinds : List AstType
frame_kinds = BlockStatement ∷ CatchClause ∷ DoWhileStatement ∷ ForInStatement ∷ ForOfStatement ∷ ForStatement ∷ IfStatement ∷ LabeledStatement ∷ SwitchStatement ∷ TryStatement ∷ WhileStatement ∷ []

abbrev pub is_frame : AstType → Bool
is_frame k = list_any (same_type k) frame_kinds

-- a sort of which no frame is
abbrev pub is_plain_sort : Sort → Bool
is_plain_sort s = list_all (λ k. not (is_of_sort s k)) frame_kinds

-- what is so of each kind of a list is so of a kind in it
all-of : (q : AstType → Bool) (k : AstType) (ks : List AstType) → list_any (same_type k) ks ≡ true → list_all q ks ≡ true → q k ≡ true
all-of q k [] h e = absurd (cc h)
all-of q k (j ∷ ks) h e = at (same_type k j) refl h (λ f. all-of q k ks f (and_parts (q j) (list_all q ks) e).1)
  where
    at : (b : Bool) → same_type k j ≡ b → (b || list_any (same_type k) ks) ≡ true → (list_any (same_type k) ks ≡ true → q k ≡ true) → q k ≡ true
    at true d f g = ap q (same-kind k j d) ∙ (and_parts (q j) (list_all q ks) e).0
    at false d f g = g f

pub frame-all : (q : AstType → Bool) (k : AstType) → is_frame k ≡ true → list_all q frame_kinds ≡ true → q k ≡ true
frame-all q k h e = all-of q k frame_kinds h e

-- WHAT RULES ASK of a frame

module _ (l : Label) (fs : Fields) where
  record Facts (k : AstType) : Type 0 where
    jump : (up : List Ancestor) → is_missing_label up (node k l fs) ≡ false
    label : (up : List Ancestor) → is_duplicate_label up (node k l fs) ≡ false
    returned : (up : List Ancestor) → is_misplaced_return up (node k l fs) ≡ false
    super_word : (up : List Ancestor) → is_misplaced_super up (node k l fs) ≡ false
    chain : is_empty_chain (node k l fs) ≡ false
    mark : is_optional k l ≡ false
    deleted : is_bad_delete (node k l fs) ≡ false
    value : (p : Place) → is_missing_init p (node k l fs) ≡ false
    using_word : (up : List Ancestor) → is_bad_using up (node k l fs) ≡ false
    head : (up : List Ancestor) → is_bad_for up (node k l fs) ≡ false
    item : is_module_item k ≡ false
    accessor : is_bad_accessor (node k l fs) ≡ false
    declaration : is_declaration k l ≡ false
    meta : (up : List Ancestor) → is_misplaced_meta up (node k l fs) ≡ false
    name : same_type k Identifier ≡ false
    target : is_simple_target (kind_of (without_parens (node k l fs))) ≡ false

  facts : (k : AstType) → is_frame k ≡ true → Facts k
  facts BlockStatement e = record { jump = λ up. refl; label = λ up. refl; returned = λ up. refl; super_word = λ up. refl; chain = refl; mark = refl; deleted = refl; value = λ p. refl; using_word = λ up. refl; head = λ up. refl; item = refl; accessor = refl; declaration = refl; meta = λ up. refl; name = refl; target = refl }
  facts CatchClause e = record { jump = λ up. refl; label = λ up. refl; returned = λ up. refl; super_word = λ up. refl; chain = refl; mark = refl; deleted = refl; value = λ p. refl; using_word = λ up. refl; head = λ up. refl; item = refl; accessor = refl; declaration = refl; meta = λ up. refl; name = refl; target = refl }
  facts DoWhileStatement e = record { jump = λ up. refl; label = λ up. refl; returned = λ up. refl; super_word = λ up. refl; chain = refl; mark = refl; deleted = refl; value = λ p. refl; using_word = λ up. refl; head = λ up. refl; item = refl; accessor = refl; declaration = refl; meta = λ up. refl; name = refl; target = refl }
  facts ForInStatement e = record { jump = λ up. refl; label = λ up. refl; returned = λ up. refl; super_word = λ up. refl; chain = refl; mark = refl; deleted = refl; value = λ p. refl; using_word = λ up. refl; head = λ up. refl; item = refl; accessor = refl; declaration = refl; meta = λ up. refl; name = refl; target = refl }
  facts ForOfStatement e = record { jump = λ up. refl; label = λ up. refl; returned = λ up. refl; super_word = λ up. refl; chain = refl; mark = refl; deleted = refl; value = λ p. refl; using_word = λ up. refl; head = λ up. refl; item = refl; accessor = refl; declaration = refl; meta = λ up. refl; name = refl; target = refl }
  facts ForStatement e = record { jump = λ up. refl; label = λ up. refl; returned = λ up. refl; super_word = λ up. refl; chain = refl; mark = refl; deleted = refl; value = λ p. refl; using_word = λ up. refl; head = λ up. refl; item = refl; accessor = refl; declaration = refl; meta = λ up. refl; name = refl; target = refl }
  facts IfStatement e = record { jump = λ up. refl; label = λ up. refl; returned = λ up. refl; super_word = λ up. refl; chain = refl; mark = refl; deleted = refl; value = λ p. refl; using_word = λ up. refl; head = λ up. refl; item = refl; accessor = refl; declaration = refl; meta = λ up. refl; name = refl; target = refl }
  facts LabeledStatement e = record { jump = λ up. refl; label = λ up. refl; returned = λ up. refl; super_word = λ up. refl; chain = refl; mark = refl; deleted = refl; value = λ p. refl; using_word = λ up. refl; head = λ up. refl; item = refl; accessor = refl; declaration = refl; meta = λ up. refl; name = refl; target = refl }
  facts SwitchStatement e = record { jump = λ up. refl; label = λ up. refl; returned = λ up. refl; super_word = λ up. refl; chain = refl; mark = refl; deleted = refl; value = λ p. refl; using_word = λ up. refl; head = λ up. refl; item = refl; accessor = refl; declaration = refl; meta = λ up. refl; name = refl; target = refl }
  facts TryStatement e = record { jump = λ up. refl; label = λ up. refl; returned = λ up. refl; super_word = λ up. refl; chain = refl; mark = refl; deleted = refl; value = λ p. refl; using_word = λ up. refl; head = λ up. refl; item = refl; accessor = refl; declaration = refl; meta = λ up. refl; name = refl; target = refl }
  facts WhileStatement e = record { jump = λ up. refl; label = λ up. refl; returned = λ up. refl; super_word = λ up. refl; chain = refl; mark = refl; deleted = refl; value = λ p. refl; using_word = λ up. refl; head = λ up. refl; item = refl; accessor = refl; declaration = refl; meta = λ up. refl; name = refl; target = refl }
  facts _ e = absurd (cc e)

-- TARGETS: no place takes a frame as a target

abbrev TakesNone : Place → Type 0
TakesNone (Target s) = list_all (λ k. not (list_any (same_type k) (own_kinds s))) frame_kinds ≡ true
TakesNone p = Unit {0}

takes-assigned : (b : Bool) → TakesNone (Target (if b then s-AssignmentTarget else s-Expression))
takes-assigned true = refl
takes-assigned false = refl

takes-declarator : (p : Place) (word : Text) → TakesNone (declarator_place p word)
takes-declarator ProgramBody word = tt
takes-declarator (Target s) word = tt
takes-declarator _ word = tt

takes-binding : (p : Place) → TakesNone (binding_place p)
takes-binding (Declarator true lexical constant) = tt
takes-binding (Declarator false lexical constant) = tt
takes-binding _ = tt

takes-link : (p : Place) → TakesNone (link_place p)
takes-link Spine = tt
takes-link _ = tt

takes-in : (p : Place) (k : AstType) (l : Label) (i : ℕ) → TakesNone (place_in p k l i)
takes-in p VariableDeclaration l zero = takes-declarator p _
takes-in p VariableDeclarator l zero = takes-binding p
takes-in p ChainExpression l zero = tt
takes-in p MemberExpression l zero = takes-link p
takes-in p CallExpression l zero = takes-link p
takes-in p AssignmentExpression l zero = takes-assigned _
takes-in p UpdateExpression l zero = refl
takes-in p ForInStatement l zero = refl
takes-in p ForOfStatement l zero = refl
takes-in p ArrayTarget l zero = refl
takes-in p TargetWithDefault l zero = refl
takes-in p TargetRest l zero = refl
takes-in p _ l zero = tt
takes-in p Program l (suc zero) = tt
takes-in p TargetProperty l (suc zero) = refl
takes-in p ArrayTarget l (suc zero) = refl
takes-in p _ l (suc zero) = tt
takes-in p ArrayTarget l (suc (suc i)) = refl
takes-in p _ l (suc (suc i)) = tt

takes-none : (up : List Ancestor) → TakesNone (place_of up)
takes-none [] = tt
takes-none (a ∷ up) = takes-in (place_of up) a.kind a.label a.index

not-false : (a b : Bool) → not a ≡ true → b ≡ false → not (a || b) ≡ true
not-false true b e d = absurd (cc e)
not-false false b e d = ap (λ v. not v) d

-- where one may stand so may another
frame-target : (p : Place) → TakesNone p → (k : AstType) (l : Label) (fs : Fields) (u : Tree) → is_frame k ≡ true → is_bad_target p (node k l fs) ≡ false → is_bad_target p u ≡ false
frame-target (Target s) h k l fs u e d = absurd (let bad = not-false (list_any (same_type k) (own_kinds s)) (is_simple_target (kind_of (without_parens (node k l fs)))) (frame-all (λ j. not (list_any (same_type j) (own_kinds s))) k e h) (facts l fs k e).target in cc (bad, d))
frame-target _ h k l fs u e d = refl

frame-rest : (up : List Ancestor) (t u : Tree) → same_type (kind_of t) Identifier ≡ false → same_type (kind_of u) Identifier ≡ false → is_simple_target (kind_of (without_parens t)) ≡ false → is_simple_target (kind_of (without_parens u)) ≡ false → is_bad_rest up t ≡ false → is_bad_rest up u ≡ false
frame-rest [] t u a b c d h = refl
frame-rest (x ∷ []) t u a b c d h = refl
frame-rest (x ∷ (y ∷ up)) t u a b c d h = (λ i. (leads_by RestElement 0 x && same_type y.kind ObjectPattern && not (b i)) || (leads_by TargetRest 0 x && same_type y.kind ObjectTarget && not (d i))) ∙ sym (λ i. (leads_by RestElement 0 x && same_type y.kind ObjectPattern && not (a i)) || (leads_by TargetRest 0 x && same_type y.kind ObjectTarget && not (c i))) ∙ h

-- a frame that is made, where it is no target
pub frame-made : (up : List Ancestor) (j : AstType) (m : Label) (gs : Fields) → is_frame j ≡ true → is_bad_target (place_of up) (node j m gs) ≡ false → is_bad_rest up (node j m gs) ≡ false → KeepsHere up (node j m gs)
frame-made up j m gs d target rest =
    let b = facts m gs j d in
    record {
      jump = b.jump up;
      label = b.label up;
      returned = b.returned up;
      super_word = b.super_word up;
      target = target;
      chain = b.chain;
      mark = unmarked (place_of up) j m gs b.mark;
      deleted = b.deleted;
      value = b.value (place_of up);
      using_word = b.using_word up;
      head = b.head up;
      item = ap (λ v. v && not (is_module_top up)) b.item;
      accessor = b.accessor;
      rest = rest;
      declaration = ap (λ v. v && is_lone_body up) b.declaration;
      meta = b.meta up;
    }

-- one frame in the place of another
pub frame-here : (up : List Ancestor) (k : AstType) (l : Label) (fs : Fields) (j : AstType) (m : Label) (gs : Fields) → is_frame k ≡ true → is_frame j ≡ true → KeepsHere up (node k l fs) → KeepsHere up (node j m gs)
frame-here up k l fs j m gs e d h =
    let a = facts l fs k e in
    let b = facts m gs j d in
    frame-made up j m gs d (frame-target (place_of up) (takes-none up) k l fs (node j m gs) e h.target) (frame-rest up (node k l fs) (node j m gs) a.name b.name a.target b.target h.rest)

-- A PARENT that is no rest, and one that is no method

pub no-rest : (a : Ancestor) → leads_by RestElement 0 a ≡ false → leads_by TargetRest 0 a ≡ false → (up : List Ancestor) (t : Tree) → is_bad_rest (a ∷ up) t ≡ false
no-rest a e d [] t = refl
no-rest a e d (b ∷ up) t = λ i. (e i && same_type b.kind ObjectPattern && not (same_type (kind_of t) Identifier)) || (d i && same_type b.kind ObjectTarget && not (is_simple_target (kind_of (without_parens t))))

pub no-constructor : (a : Ancestor) → leads_by MethodDefinition 1 a ≡ false → (up : List Ancestor) → is_derived_constructor (a ∷ up) ≡ false
no-constructor a e [] = refl
no-constructor a e (c ∷ up) = λ i. e i && bytes_eq (first_text a.label.texts) (codes "constructor") && is_derived c

-- WHAT A FRAME OFFERS to what stands in it

-- a labelled statement has the same label, and before a loop or not
pub record SameLabel (fs gs : Fields) : Type 0 where
  pub name : name_in gs ≡ name_in fs
  pub loop : has_loop_body gs ≡ has_loop_body fs

frame-labels : (k : AstType) (l : Label) (fs gs : Fields) (i : ℕ) → (same_type k LabeledStatement ≡ true → SameLabel fs gs) → own_labels (ancestor k l gs i 0) ≡ own_labels (ancestor k l fs i 0)
frame-labels LabeledStatement l fs gs i h = λ j. if i == 1 then record { name = (h refl).name j; loop = (h refl).loop j } ∷ [] else []
frame-labels _ l fs gs i h = refl

frame-class : (k : AstType) → is_frame k ≡ true → is_class k ≡ false
frame-class BlockStatement e = refl
frame-class CatchClause e = refl
frame-class DoWhileStatement e = refl
frame-class ForInStatement e = refl
frame-class ForOfStatement e = refl
frame-class ForStatement e = refl
frame-class IfStatement e = refl
frame-class LabeledStatement e = refl
frame-class SwitchStatement e = refl
frame-class TryStatement e = refl
frame-class WhileStatement e = refl
frame-class _ e = absurd (cc e)

no-class : (k : AstType) (l : Label) (fs gs : Fields) (i : ℕ) → is_class k ≡ false → is_derived (ancestor k l gs i 0) ≡ is_derived (ancestor k l fs i 0)
no-class k l fs gs i e = (λ j. e j && is_some (child_at 1 gs)) ∙ sym (λ j. e j && is_some (child_at 1 fs))

pub frame-alike : (k : AstType) (l : Label) (fs gs : Fields) (i : ℕ) → is_frame k ≡ true → (same_type k LabeledStatement ≡ true → SameLabel fs gs) → Alike (ancestor k l fs i 0) (ancestor k l gs i 0)
frame-alike k l fs gs i e h = record { kind = refl; label = refl; index = refl; labels = frame-labels k l fs gs i h; derived = no-class k l fs gs i (frame-class k e) }
