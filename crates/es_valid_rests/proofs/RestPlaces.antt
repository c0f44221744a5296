-- Nodes that rules of object rests make, and what moves into them, keep the static rules of places.
use Rattle.std.proofs.Common.{◌≡◌, ℕ, refl, sym, ap, ◌∙◌, List, [], ◌∷◌}
use Rattle.std.specs.Prelude.{Bool, true, false, not, ◌&&◌, ◌||◌, bytes_eq, codes, Some}
use Rattle.std.specs.List.{list_any}
use Rattle.es_tree.specs.Ancestors.{Ancestor, ancestor, is_script_top, leads_by, place_of, stands_in}
use Rattle.es_tree.specs.CoreStaticRules.{declarator_place, is_bad_delete, is_bad_target, is_empty_chain, is_missing_init, is_optional, is_simple_target}
use Rattle.es_tree.specs.HasForm.{same_type}
use Rattle.es_tree.specs.Names.{first_text}
use Rattle.es_tree.specs.Parens.{without_parens}
use Rattle.es_tree.specs.StaticRules.{has_pattern, is_bad_accessor, is_bad_for, is_bad_rest, is_bad_using, is_declaration, is_duplicate_label, is_lone_body, is_lone_declarator, is_misplaced_meta, is_misplaced_module_item, is_misplaced_return, is_misplaced_super, is_missing_label}
use Rattle.es_tree.specs.Table.{own_kinds}
use Rattle.es_tree.specs.Tree.{Tree, node, Label, Fields, done, ◌then◌, one, many, Trees, kind_of}
use Rattle.es_tree.specs.Words.{Text}
use Rattle.es_tree.specs.declared.ast_type.AstType.{AstType}
use Rattle.es_tree.specs.declared.ast_type.AstType.TheVariants.{ArrayPattern, ArrowFunctionExpression, AssignmentPattern, BlockStatement, CatchClause, ExportNamedDeclaration, ExpressionStatement, ForInStatement, ForOfStatement, FunctionBody, FunctionDeclaration, FunctionExpression, Identifier, LabeledStatement, ObjectPattern, ObjectTarget, PatternProperty, Program, RestElement, TargetRest, VariableDeclaration, VariableDeclarator}
use Rattle.es_tree.specs.declared.place.Place.{Place}
use Rattle.es_tree.specs.declared.place.Place.TheVariants.{Declared, Declarator, Other, ProgramBody, Target}
use Rattle.es_resolution.specs.Declarations.{Bound}
use Rattle.es_steps.specs.Nodes.{identifier, made}
use Rattle.es_valid_steps.specs.PlaceRules.{Keeps, KeepsHere}
use Rattle.es_valid_steps.proofs.Free.{made-there, unmarked}
use Rattle.es_valid_steps.proofs.Loose.{Loose}
use Rattle.es_valid_steps.proofs.Moves.{never-and}

-- CALM KINDS: nodes of these break no rule by themselves

abbrev pub is_calm : AstType → Bool
is_calm ArrayPattern = true
is_calm ArrowFunctionExpression = true
is_calm AssignmentPattern = true
is_calm BlockStatement = true
is_calm CatchClause = true
is_calm ExpressionStatement = true
is_calm ForInStatement = true
is_calm ForOfStatement = true
is_calm FunctionBody = true
is_calm FunctionDeclaration = true
is_calm FunctionExpression = true
is_calm ObjectPattern = true
is_calm ObjectTarget = true
is_calm PatternProperty = true
is_calm RestElement = true
is_calm _ = false

module _ (l : Label) (fs : Fields) where
  record Calm (k : AstType) : Type 0 where
    jump : (up : List Ancestor) → is_missing_label up (node k l fs) ≡ false
    label : (up : List Ancestor) → is_duplicate_label up (node k l fs) ≡ false
    returned : (up : List Ancestor) → is_misplaced_return up (node k l fs) ≡ false
    super_word : (up : List Ancestor) → is_misplaced_super up (node k l fs) ≡ false
    chain : is_empty_chain (node k l fs) ≡ false
    optional : is_optional k l ≡ false
    deleted : is_bad_delete (node k l fs) ≡ false
    value : (p : Place) → is_missing_init p (node k l fs) ≡ false
    using_word : (up : List Ancestor) → is_bad_using up (node k l fs) ≡ false
    head : (up : List Ancestor) → is_bad_for up (node k l fs) ≡ false
    item : (up : List Ancestor) → is_misplaced_module_item up (node k l fs) ≡ false
    accessor : is_bad_accessor (node k l fs) ≡ false
    meta : (up : List Ancestor) → is_misplaced_meta up (node k l fs) ≡ false
    simple : is_simple_target (kind_of (without_parens (node k l fs))) ≡ false

  calm : (k : AstType) → is_calm k ≡ true → Calm k
  calm ArrayPattern e = record { jump = λ up. refl; label = λ up. refl; returned = λ up. refl; super_word = λ up. refl; chain = refl; optional = refl; deleted = refl; value = λ p. refl; using_word = λ up. refl; head = λ up. refl; item = λ up. refl; accessor = refl; meta = λ up. refl; simple = refl }
  calm ArrowFunctionExpression e = record { jump = λ up. refl; label = λ up. refl; returned = λ up. refl; super_word = λ up. refl; chain = refl; optional = refl; deleted = refl; value = λ p. refl; using_word = λ up. refl; head = λ up. refl; item = λ up. refl; accessor = refl; meta = λ up. refl; simple = refl }
  calm AssignmentPattern e = record { jump = λ up. refl; label = λ up. refl; returned = λ up. refl; super_word = λ up. refl; chain = refl; optional = refl; deleted = refl; value = λ p. refl; using_word = λ up. refl; head = λ up. refl; item = λ up. refl; accessor = refl; meta = λ up. refl; simple = refl }
  calm BlockStatement e = record { jump = λ up. refl; label = λ up. refl; returned = λ up. refl; super_word = λ up. refl; chain = refl; optional = refl; deleted = refl; value = λ p. refl; using_word = λ up. refl; head = λ up. refl; item = λ up. refl; accessor = refl; meta = λ up. refl; simple = refl }
  calm CatchClause e = record { jump = λ up. refl; label = λ up. refl; returned = λ up. refl; super_word = λ up. refl; chain = refl; optional = refl; deleted = refl; value = λ p. refl; using_word = λ up. refl; head = λ up. refl; item = λ up. refl; accessor = refl; meta = λ up. refl; simple = refl }
  calm ExpressionStatement e = record { jump = λ up. refl; label = λ up. refl; returned = λ up. refl; super_word = λ up. refl; chain = refl; optional = refl; deleted = refl; value = λ p. refl; using_word = λ up. refl; head = λ up. refl; item = λ up. refl; accessor = refl; meta = λ up. refl; simple = refl }
  calm ForInStatement e = record { jump = λ up. refl; label = λ up. refl; returned = λ up. refl; super_word = λ up. refl; chain = refl; optional = refl; deleted = refl; value = λ p. refl; using_word = λ up. refl; head = λ up. refl; item = λ up. refl; accessor = refl; meta = λ up. refl; simple = refl }
  calm ForOfStatement e = record { jump = λ up. refl; label = λ up. refl; returned = λ up. refl; super_word = λ up. refl; chain = refl; optional = refl; deleted = refl; value = λ p. refl; using_word = λ up. refl; head = λ up. refl; item = λ up. refl; accessor = refl; meta = λ up. refl; simple = refl }
  calm FunctionBody e = record { jump = λ up. refl; label = λ up. refl; returned = λ up. refl; super_word = λ up. refl; chain = refl; optional = refl; deleted = refl; value = λ p. refl; using_word = λ up. refl; head = λ up. refl; item = λ up. refl; accessor = refl; meta = λ up. refl; simple = refl }
  calm FunctionDeclaration e = record { jump = λ up. refl; label = λ up. refl; returned = λ up. refl; super_word = λ up. refl; chain = refl; optional = refl; deleted = refl; value = λ p. refl; using_word = λ up. refl; head = λ up. refl; item = λ up. refl; accessor = refl; meta = λ up. refl; simple = refl }
  calm FunctionExpression e = record { jump = λ up. refl; label = λ up. refl; returned = λ up. refl; super_word = λ up. refl; chain = refl; optional = refl; deleted = refl; value = λ p. refl; using_word = λ up. refl; head = λ up. refl; item = λ up. refl; accessor = refl; meta = λ up. refl; simple = refl }
  calm ObjectPattern e = record { jump = λ up. refl; label = λ up. refl; returned = λ up. refl; super_word = λ up. refl; chain = refl; optional = refl; deleted = refl; value = λ p. refl; using_word = λ up. refl; head = λ up. refl; item = λ up. refl; accessor = refl; meta = λ up. refl; simple = refl }
  calm ObjectTarget e = record { jump = λ up. refl; label = λ up. refl; returned = λ up. refl; super_word = λ up. refl; chain = refl; optional = refl; deleted = refl; value = λ p. refl; using_word = λ up. refl; head = λ up. refl; item = λ up. refl; accessor = refl; meta = λ up. refl; simple = refl }
  calm PatternProperty e = record { jump = λ up. refl; label = λ up. refl; returned = λ up. refl; super_word = λ up. refl; chain = refl; optional = refl; deleted = refl; value = λ p. refl; using_word = λ up. refl; head = λ up. refl; item = λ up. refl; accessor = refl; meta = λ up. refl; simple = refl }
  calm RestElement e = record { jump = λ up. refl; label = λ up. refl; returned = λ up. refl; super_word = λ up. refl; chain = refl; optional = refl; deleted = refl; value = λ p. refl; using_word = λ up. refl; head = λ up. refl; item = λ up. refl; accessor = refl; meta = λ up. refl; simple = refl }
  calm _ e = absurd (cc e)

pub calm-here : (up : List Ancestor) (k : AstType) (l : Label) (fs : Fields) → is_calm k ≡ true → is_bad_target (place_of up) (node k l fs) ≡ false → is_bad_rest up (node k l fs) ≡ false → (is_declaration k l && is_lone_body up) ≡ false → KeepsHere up (node k l fs)
calm-here up k l fs e target rest declaration =
    let c = calm l fs k e in
    record {
      jump = c.jump up;
      label = c.label up;
      returned = c.returned up;
      super_word = c.super_word up;
      target = target;
      chain = c.chain;
      mark = unmarked (place_of up) k l fs c.optional;
      deleted = c.deleted;
      value = c.value (place_of up);
      using_word = c.using_word up;
      head = c.head up;
      item = c.item up;
      accessor = c.accessor;
      rest = rest;
      declaration = declaration;
      meta = c.meta up;
    }

-- THE SAME PLACE: other fields, and another label

target-again : (p : Place) (k : AstType) (l m : Label) (fs gs : Fields) → is_calm k ≡ true → is_bad_target p (node k m gs) ≡ is_bad_target p (node k l fs)
target-again (Target s) k l m fs gs e = ap (λ b. not (list_any (same_type k) (own_kinds s) || b)) ((calm m gs k e).simple ∙ sym (calm l fs k e).simple)
target-again _ k l m fs gs e = refl

rest-again : (up : List Ancestor) (k : AstType) (l m : Label) (fs gs : Fields) → is_calm k ≡ true → is_bad_rest up (node k m gs) ≡ is_bad_rest up (node k l fs)
rest-again [] k l m fs gs e = refl
rest-again (a ∷ []) k l m fs gs e = refl
rest-again (a ∷ (b ∷ up)) k l m fs gs e = ap (λ c. (leads_by RestElement 0 a && same_type b.kind ObjectPattern && not (same_type k Identifier)) || (leads_by TargetRest 0 a && same_type b.kind ObjectTarget && not c)) ((calm m gs k e).simple ∙ sym (calm l fs k e).simple)

declaration-again : (k : AstType) (l m : Label) → is_calm k ≡ true → is_declaration k m ≡ is_declaration k l
declaration-again VariableDeclaration l m e = absurd (cc e)
declaration-again _ l m e = refl

pub calm-again : (up : List Ancestor) (k : AstType) (l m : Label) (fs gs : Fields) → is_calm k ≡ true → KeepsHere up (node k l fs) → KeepsHere up (node k m gs)
calm-again up k l m fs gs e h = calm-here up k m gs e (target-again (place_of up) k l m fs gs e ∙ h.target) (rest-again up k l m fs gs e ∙ h.rest) (ap (λ b. b && is_lone_body up) (declaration-again k l m e) ∙ h.declaration)

-- LOOSE PLACES: declarators, and patterns

-- where nothing is asked of what stands there, as a target
pub data Still : Place → Type 0 where
  still_other : Still Other
  still_declared : {lexical : Bool} → Still (Declared lexical)

pub still-target : (p : Place) (t : Tree) → Still p → is_bad_target p t ≡ false
still-target p t still_other = refl
still-target p t still_declared = refl

-- what the rules of rests ask
pub no-rest : (x y z w : Bool) → ((x && false && y) || (z && false && w)) ≡ false
no-rest true y true w = refl
no-rest true y false w = refl
no-rest false y true w = refl
no-rest false y false w = refl

-- declarators and their declarations, functions, expressions as statements
abbrev pub is_level : AstType → Bool
is_level ExpressionStatement = true
is_level FunctionDeclaration = true
is_level FunctionExpression = true
is_level VariableDeclaration = true
is_level VariableDeclarator = true
is_level _ = false

record Stands (k : AstType) (l : Label) (fs : Fields) (i : ℕ) (up : List Ancestor) : Type 0 where
  label : stands_in LabeledStatement 0 (ancestor k l fs i 0 ∷ up) ≡ false
  top : stands_in Program 1 (ancestor k l fs i 0 ∷ up) ≡ false
  for_in : stands_in ForInStatement 0 (ancestor k l fs i 0 ∷ up) ≡ false
  for_of : stands_in ForOfStatement 0 (ancestor k l fs i 0 ∷ up) ≡ false
  exported : stands_in ExportNamedDeclaration 0 (ancestor k l fs i 0 ∷ up) ≡ false
  lone : is_lone_body (ancestor k l fs i 0 ∷ up) ≡ false
  rest : (t : Tree) → is_bad_rest (ancestor k l fs i 0 ∷ up) t ≡ false
  inner_rest : (a : Ancestor) (t : Tree) → is_bad_rest (a ∷ (ancestor k l fs i 0 ∷ up)) t ≡ false

stands-there : (k : AstType) (l : Label) (fs : Fields) (i : ℕ) (up : List Ancestor) → is_level k ≡ true → Stands k l fs i up
stands-there ExpressionStatement l fs i [] e = record { label = refl; top = refl; for_in = refl; for_of = refl; exported = refl; lone = refl; rest = λ t. refl; inner_rest = λ a t. no-rest (leads_by RestElement 0 a) (not (same_type (kind_of t) Identifier)) (leads_by TargetRest 0 a) (not (is_simple_target (kind_of (without_parens t)))) }
stands-there ExpressionStatement l fs i (b ∷ up) e = record { label = refl; top = refl; for_in = refl; for_of = refl; exported = refl; lone = refl; rest = λ t. refl; inner_rest = λ a t. no-rest (leads_by RestElement 0 a) (not (same_type (kind_of t) Identifier)) (leads_by TargetRest 0 a) (not (is_simple_target (kind_of (without_parens t)))) }
stands-there FunctionDeclaration l fs i [] e = record { label = refl; top = refl; for_in = refl; for_of = refl; exported = refl; lone = refl; rest = λ t. refl; inner_rest = λ a t. no-rest (leads_by RestElement 0 a) (not (same_type (kind_of t) Identifier)) (leads_by TargetRest 0 a) (not (is_simple_target (kind_of (without_parens t)))) }
stands-there FunctionDeclaration l fs i (b ∷ up) e = record { label = refl; top = refl; for_in = refl; for_of = refl; exported = refl; lone = refl; rest = λ t. refl; inner_rest = λ a t. no-rest (leads_by RestElement 0 a) (not (same_type (kind_of t) Identifier)) (leads_by TargetRest 0 a) (not (is_simple_target (kind_of (without_parens t)))) }
stands-there FunctionExpression l fs i [] e = record { label = refl; top = refl; for_in = refl; for_of = refl; exported = refl; lone = refl; rest = λ t. refl; inner_rest = λ a t. no-rest (leads_by RestElement 0 a) (not (same_type (kind_of t) Identifier)) (leads_by TargetRest 0 a) (not (is_simple_target (kind_of (without_parens t)))) }
stands-there FunctionExpression l fs i (b ∷ up) e = record { label = refl; top = refl; for_in = refl; for_of = refl; exported = refl; lone = refl; rest = λ t. refl; inner_rest = λ a t. no-rest (leads_by RestElement 0 a) (not (same_type (kind_of t) Identifier)) (leads_by TargetRest 0 a) (not (is_simple_target (kind_of (without_parens t)))) }
stands-there VariableDeclaration l fs i [] e = record { label = refl; top = refl; for_in = refl; for_of = refl; exported = refl; lone = refl; rest = λ t. refl; inner_rest = λ a t. no-rest (leads_by RestElement 0 a) (not (same_type (kind_of t) Identifier)) (leads_by TargetRest 0 a) (not (is_simple_target (kind_of (without_parens t)))) }
stands-there VariableDeclaration l fs i (b ∷ up) e = record { label = refl; top = refl; for_in = refl; for_of = refl; exported = refl; lone = refl; rest = λ t. refl; inner_rest = λ a t. no-rest (leads_by RestElement 0 a) (not (same_type (kind_of t) Identifier)) (leads_by TargetRest 0 a) (not (is_simple_target (kind_of (without_parens t)))) }
stands-there VariableDeclarator l fs i [] e = record { label = refl; top = refl; for_in = refl; for_of = refl; exported = refl; lone = refl; rest = λ t. refl; inner_rest = λ a t. no-rest (leads_by RestElement 0 a) (not (same_type (kind_of t) Identifier)) (leads_by TargetRest 0 a) (not (is_simple_target (kind_of (without_parens t)))) }
stands-there VariableDeclarator l fs i (b ∷ up) e = record { label = refl; top = refl; for_in = refl; for_of = refl; exported = refl; lone = refl; rest = λ t. refl; inner_rest = λ a t. no-rest (leads_by RestElement 0 a) (not (same_type (kind_of t) Identifier)) (leads_by TargetRest 0 a) (not (is_simple_target (kind_of (without_parens t)))) }
stands-there _ l fs i up e = absurd (cc e)

pub level-loose : (k : AstType) (l : Label) (fs : Fields) (i : ℕ) (up : List Ancestor) → is_level k ≡ true → Loose (ancestor k l fs i 0 ∷ up)
level-loose k l fs i up e = let s = stands-there k l fs i up e in record { label = s.label; top = s.top; for_in = s.for_in; for_of = s.for_of; exported = s.exported; lone = s.lone; rest = s.rest; inner_rest = s.inner_rest }

pub declarator-loose : (l : Label) (fs : Fields) (i : ℕ) (up : List Ancestor) → Loose (ancestor VariableDeclarator l fs i 0 ∷ up)
declarator-loose l fs i up = level-loose VariableDeclarator l fs i up refl

-- MADE NODES

pub name-keeps : (vp : List Ancestor) (b : Bound) → Loose vp → Still (place_of vp) → Keeps vp (identifier b)
name-keeps vp b h p = (made-there vp Identifier (record (made (Some b.name ∷ []) []) { marks = b.symbol ∷ [] }) done h (still-target (place_of vp) (identifier b) p) refl refl refl, tt)

pub block-here : (vp : List Ancestor) (l : Label) (fs : Fields) → Loose vp → Still (place_of vp) → KeepsHere vp (node BlockStatement l fs)
block-here vp l fs h p = calm-here vp BlockStatement l fs refl (still-target (place_of vp) (node BlockStatement l fs) p) (h.rest (node BlockStatement l fs)) refl

-- a declarator with a value
pub valued-here : (vp : List Ancestor) (l : Label) (p e : Tree) → Loose vp → (is_bad_target (place_of vp) (node VariableDeclarator l (one p then one e then done)) ≡ false) → KeepsHere vp (node VariableDeclarator l (one p then one e then done))
valued-here vp l p e h t = record {
  jump = refl;
  label = refl;
  returned = refl;
  super_word = refl;
  target = t;
  chain = refl;
  mark = unmarked (place_of vp) VariableDeclarator l (one p then one e then done) refl;
  deleted = refl;
  value = at (place_of vp);
  using_word = refl;
  head = refl;
  item = refl;
  accessor = refl;
  rest = h.rest (node VariableDeclarator l (one p then one e then done));
  declaration = refl;
  meta = refl;
}
  where
    and-none : (b : Bool) → (b && false) ≡ false
    and-none true = refl
    and-none false = refl

    at : (q : Place) → is_missing_init q (node VariableDeclarator l (one p then one e then done)) ≡ false
    at (Declarator top lexical constant) = and-none _
    at _ = refl

pub and-first : (b c : Bool) → b ≡ false → (b && c) ≡ false
and-first true c e = absurd (cc e)
and-first false c e = refl

-- a declaration, by a word that isn't `using`
pub declaration-here : (vp : List Ancestor) (l : Label) (ds : Trees) → Loose vp → Still (place_of vp) → bytes_eq (first_text l.texts) (codes "using") ≡ false → KeepsHere vp (node VariableDeclaration l (many ds then done))
declaration-here vp l ds h p u = record {
  jump = refl;
  label = refl;
  returned = refl;
  super_word = refl;
  target = still-target (place_of vp) (node VariableDeclaration l (many ds then done)) p;
  chain = refl;
  mark = unmarked (place_of vp) VariableDeclaration l (many ds then done) refl;
  deleted = refl;
  value = refl;
  using_word = and-first (bytes_eq (first_text l.texts) (codes "using")) (has_pattern ds || is_script_top vp || stands_in ForInStatement 0 vp || stands_in ExportNamedDeclaration 0 vp) u;
  head = λ i. (h.for_in i || h.for_of i) && not (is_lone_declarator ds);
  item = refl;
  accessor = refl;
  rest = h.rest (node VariableDeclaration l (many ds then done));
  declaration = never-and _ (is_lone_body vp) h.lone;
  meta = refl;
}

-- no declarator is a target
pub declarator-target : (p : Place) (word : Text) (t : Tree) → is_bad_target (declarator_place p word) t ≡ false
declarator-target ProgramBody word t = refl
declarator-target (Target s) word t = refl
declarator-target _ word t = refl
