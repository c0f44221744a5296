-- No rule of places asks for ids or marks.
use Rattle.std.proofs.Common.{◌≡◌, ℕ, suc, refl, sym, subst, ap, ◌∙◌, List, [], ◌∷◌}
use Rattle.std.specs.Prelude.{not, ◌&&◌, ◌||◌, bytes_eq, codes, if◌then◌else◌}
use Rattle.std.specs.List.{list_any}
use Rattle.es_tree.specs.Ancestors.{Ancestor, ancestor, leads_by, place_of}
use Rattle.es_tree.specs.Bare.{bare, bare_field, bare_fields, bare_label, bare_trees}
use Rattle.es_tree.specs.CoreStaticRules.{is_bad_delete, is_bad_target, is_empty_chain, is_missing_init, is_simple_target, is_stray_optional}
use Rattle.es_tree.specs.HasForm.{same_type}
use Rattle.es_tree.specs.Names.{first_text}
use Rattle.es_tree.specs.StaticRules.{is_bad_accessor, is_bad_for, is_bad_rest, is_bad_using, is_duplicate_label, is_label, is_loop_label, is_misplaced_declaration, is_misplaced_meta, is_misplaced_module_item, is_misplaced_return, is_misplaced_super, is_missing_label, is_module_item}
use Rattle.es_tree.specs.Tree.{Tree, node, Label, Fields, done, ◌then◌, Field, missing, one, many, statements, Trees, empty, ◌before◌}
use Rattle.es_tree.specs.declared.ast_type.AstType.{AstType}
use Rattle.es_tree.specs.declared.ast_type.AstType.TheVariants.{BreakStatement, ContinueStatement, ExportNamedDeclaration, ForInStatement, ForOfStatement, Identifier, LabeledStatement, MetaProperty, ObjectPattern, ObjectTarget, Program, RestElement, ReturnStatement, Super, TargetRest, VariableDeclaration}
use Rattle.es_valid_steps.specs.PlaceRules.{Keeps, KeepsAll, KeepsBy, KeepsHere, KeepsIn}
use Rattle.es_valid_steps.proofs.Visits.{law_places_proof}
use Rattle.es_reached.specs.BareTrees.{LawBarePlaces}
use Rattle.es_reached.proofs.BareAncestors.{bare_around, breakable-bare, callee-bare, calls-bare, in-function-bare, in-loop-bare, labels-bare, lone-body-bare, members-bare, module-bare, new-target-bare, object-bare, place-bare, stands-bare}
use Rattle.es_reached.proofs.BareNodes.{accessor-bare, chain-bare, declaration-bare, delete-bare, inner-kind-bare, kind-bare, lone-declarator-bare, mark-bare, pattern-bare, target-bare, text-bare, value-bare}

-- ONE NODE

module _ (up : List Ancestor) where
  jump-bare : (t : Tree) → is_missing_label (bare_around up) (bare t) ≡ is_missing_label up t
  jump-bare (node BreakStatement l (one n then fs)) = λ i. not (list_any (is_label (text-bare n i)) (labels-bare up i))
  jump-bare (node BreakStatement l fs) = ap not (breakable-bare up)
  jump-bare (node ContinueStatement l (one n then fs)) = λ i. not (list_any (is_loop_label (text-bare n i)) (labels-bare up i))
  jump-bare (node ContinueStatement l fs) = ap not (in-loop-bare up)
  jump-bare (node _ l fs) = refl

  label-bare : (t : Tree) → is_duplicate_label (bare_around up) (bare t) ≡ is_duplicate_label up t
  label-bare (node Identifier l fs) = λ i. stands-bare LabeledStatement 0 up i && list_any (is_label (first_text l.texts)) (labels-bare up i)
  label-bare (node _ l fs) = refl

  return-bare : (t : Tree) → is_misplaced_return (bare_around up) (bare t) ≡ is_misplaced_return up t
  return-bare (node ReturnStatement l fs) = ap not (in-function-bare up)
  return-bare (node _ l fs) = refl

  super-bare : (t : Tree) → is_misplaced_super (bare_around up) (bare t) ≡ is_misplaced_super up t
  super-bare (node Super l fs) = λ i. not ((callee-bare up i && calls-bare up i) || (object-bare up i && members-bare up i))
  super-bare (node _ l fs) = refl

  using-bare : (t : Tree) → is_bad_using (bare_around up) (bare t) ≡ is_bad_using up t
  using-bare (node VariableDeclaration l (many ds then fs)) =
      λ i.
      bytes_eq (first_text l.texts) (codes "using")
      && (pattern-bare ds i || (stands-bare Program 1 up i && not (module-bare up i)) || stands-bare ForInStatement 0 up i || stands-bare ExportNamedDeclaration 0 up i)
  using-bare (node VariableDeclaration l fs) = refl
  using-bare (node _ l fs) = refl

  head-bare : (t : Tree) → is_bad_for (bare_around up) (bare t) ≡ is_bad_for up t
  head-bare (node VariableDeclaration l (many ds then fs)) = λ i. (stands-bare ForInStatement 0 up i || stands-bare ForOfStatement 0 up i) && not (lone-declarator-bare ds i)
  head-bare (node VariableDeclaration l fs) = refl
  head-bare (node _ l fs) = refl

  item-bare : (t : Tree) → is_misplaced_module_item (bare_around up) (bare t) ≡ is_misplaced_module_item up t
  item-bare t = λ i. is_module_item (kind-bare t i) && not (stands-bare Program 1 up i && module-bare up i)

  meta-bare : (t : Tree) → is_misplaced_meta (bare_around up) (bare t) ≡ is_misplaced_meta up t
  meta-bare (node MetaProperty l fs) = λ i. if bytes_eq (first_text l.texts) (codes "new") then not (new-target-bare up i) else not (module-bare up i)
  meta-bare (node _ l fs) = refl

rest-bare : (up : List Ancestor) (t : Tree) → is_bad_rest (bare_around up) (bare t) ≡ is_bad_rest up t
rest-bare [] t = refl
rest-bare (a ∷ []) t = refl
rest-bare (a ∷ (b ∷ up)) t =
    λ i.
    (leads_by RestElement 0 a && same_type b.kind ObjectPattern && not (same_type (kind-bare t i) Identifier))
    || (leads_by TargetRest 0 a && same_type b.kind ObjectTarget && not (is_simple_target (inner-kind-bare t i)))

-- the rules say the same of two nodes
record SameHere (up vp : List Ancestor) (t u : Tree) : Type 0 where
  jump : is_missing_label vp u ≡ is_missing_label up t
  label : is_duplicate_label vp u ≡ is_duplicate_label up t
  returned : is_misplaced_return vp u ≡ is_misplaced_return up t
  super_word : is_misplaced_super vp u ≡ is_misplaced_super up t
  target : is_bad_target (place_of vp) u ≡ is_bad_target (place_of up) t
  chain : is_empty_chain u ≡ is_empty_chain t
  mark : is_stray_optional (place_of vp) u ≡ is_stray_optional (place_of up) t
  deleted : is_bad_delete u ≡ is_bad_delete t
  value : is_missing_init (place_of vp) u ≡ is_missing_init (place_of up) t
  using_word : is_bad_using vp u ≡ is_bad_using up t
  head : is_bad_for vp u ≡ is_bad_for up t
  item : is_misplaced_module_item vp u ≡ is_misplaced_module_item up t
  accessor : is_bad_accessor u ≡ is_bad_accessor t
  rest : is_bad_rest vp u ≡ is_bad_rest up t
  declaration : is_misplaced_declaration vp u ≡ is_misplaced_declaration up t
  meta : is_misplaced_meta vp u ≡ is_misplaced_meta up t

here-bare : (up : List Ancestor) (t : Tree) → SameHere up (bare_around up) t (bare t)
here-bare up t = record {
  jump = jump-bare up t;
  label = label-bare up t;
  returned = return-bare up t;
  super_word = super-bare up t;
  target = ap (λ p. is_bad_target p (bare t)) (place-bare up) ∙ target-bare (place_of up) t;
  chain = chain-bare t;
  mark = ap (λ p. is_stray_optional p (bare t)) (place-bare up) ∙ mark-bare (place_of up) t;
  deleted = delete-bare t;
  value = ap (λ p. is_missing_init p (bare t)) (place-bare up) ∙ value-bare (place_of up) t;
  using_word = using-bare up t;
  head = head-bare up t;
  item = item-bare up t;
  accessor = accessor-bare t;
  rest = rest-bare up t;
  declaration = λ i. declaration-bare t i && lone-body-bare up i;
  meta = meta-bare up t;
}

other-way : (up vp : List Ancestor) (t u : Tree) → SameHere up vp t u → SameHere vp up u t
other-way up vp t u h = record {
  jump = sym h.jump;
  label = sym h.label;
  returned = sym h.returned;
  super_word = sym h.super_word;
  target = sym h.target;
  chain = sym h.chain;
  mark = sym h.mark;
  deleted = sym h.deleted;
  value = sym h.value;
  using_word = sym h.using_word;
  head = sym h.head;
  item = sym h.item;
  accessor = sym h.accessor;
  rest = sym h.rest;
  declaration = sym h.declaration;
  meta = sym h.meta;
}

here-too : (up vp : List Ancestor) (t u : Tree) → SameHere up vp t u → KeepsHere up t → KeepsHere vp u
here-too up vp t u s h = record {
  jump = s.jump ∙ h.jump;
  label = s.label ∙ h.label;
  returned = s.returned ∙ h.returned;
  super_word = s.super_word ∙ h.super_word;
  target = s.target ∙ h.target;
  chain = s.chain ∙ h.chain;
  mark = s.mark ∙ h.mark;
  deleted = s.deleted ∙ h.deleted;
  value = s.value ∙ h.value;
  using_word = s.using_word ∙ h.using_word;
  head = s.head ∙ h.head;
  item = s.item ∙ h.item;
  accessor = s.accessor ∙ h.accessor;
  rest = s.rest ∙ h.rest;
  declaration = s.declaration ∙ h.declaration;
  meta = s.meta ∙ h.meta;
}

-- EACH NODE

mutual
  to-bare : (up : List Ancestor) (t : Tree) → Keeps up t → Keeps (bare_around up) (bare t)
  to-bare up (node k l fs) h = (here-too up (bare_around up) (node k l fs) (bare (node k l fs)) (here-bare up (node k l fs)) h.0, to-bare-in up k l fs 0 fs h.1)

  to-bare-in : (up : List Ancestor) (k : AstType) (l : Label) (all : Fields) (i : ℕ) (fs : Fields) → KeepsIn up k l all i fs → KeepsIn (bare_around up) k (bare_label l) (bare_fields all) i (bare_fields fs)
  to-bare-in up k l all i done h = tt
  to-bare-in up k l all i (f then fs) h = (to-bare-by (ancestor k l all i 0 ∷ up) f h.0, to-bare-in up k l all (suc i) fs h.1)

  to-bare-by : (up : List Ancestor) (f : Field) → KeepsBy up f → KeepsBy (bare_around up) (bare_field f)
  to-bare-by up missing h = tt
  to-bare-by up (one t) h = to-bare up t h
  to-bare-by up (many ts) h = to-bare-all up ts h
  to-bare-by up (statements ts) h = to-bare-all up ts h

  to-bare-all : (up : List Ancestor) (ts : Trees) → KeepsAll up ts → KeepsAll (bare_around up) (bare_trees ts)
  to-bare-all up empty h = tt
  to-bare-all up (t before ts) h = (to-bare up t h.0, to-bare-all up ts h.1)

mutual
  from-bare : (up : List Ancestor) (t : Tree) → Keeps (bare_around up) (bare t) → Keeps up t
  from-bare up (node k l fs) h = (here-too (bare_around up) up (bare (node k l fs)) (node k l fs) (other-way up (bare_around up) (node k l fs) (bare (node k l fs)) (here-bare up (node k l fs))) h.0, from-bare-in up k l fs 0 fs h.1)

  from-bare-in : (up : List Ancestor) (k : AstType) (l : Label) (all : Fields) (i : ℕ) (fs : Fields) → KeepsIn (bare_around up) k (bare_label l) (bare_fields all) i (bare_fields fs) → KeepsIn up k l all i fs
  from-bare-in up k l all i done h = tt
  from-bare-in up k l all i (f then fs) h = (from-bare-by (ancestor k l all i 0 ∷ up) f h.0, from-bare-in up k l all (suc i) fs h.1)

  from-bare-by : (up : List Ancestor) (f : Field) → KeepsBy (bare_around up) (bare_field f) → KeepsBy up f
  from-bare-by up missing h = tt
  from-bare-by up (one t) h = from-bare up t h
  from-bare-by up (many ts) h = from-bare-all up ts h
  from-bare-by up (statements ts) h = from-bare-all up ts h

  from-bare-all : (up : List Ancestor) (ts : Trees) → KeepsAll (bare_around up) (bare_trees ts) → KeepsAll up ts
  from-bare-all up empty h = tt
  from-bare-all up (t before ts) h = (from-bare up t h.0, from-bare-all up ts h.1)

-- THE LAW

pub law_bare_places_proof : LawBarePlaces
law_bare_places_proof t u same none =
    (law_places_proof u).from_places (from-bare [] u (subst (λ (x : Tree). Keeps [] x) same (to-bare [] t ((law_places_proof t).to_places none))))
