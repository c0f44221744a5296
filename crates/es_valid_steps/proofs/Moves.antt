-- A tree that keeps the rules of places keeps them wherever the ancestors offer no less.
use Rattle.std.proofs.Common.{◌≡◌, ℕ, suc, refl, ap, ◌∙◌, List, [], ◌∷◌}
use Rattle.std.specs.Prelude.{Bool, true, false, not, ◌&&◌, ◌||◌, bytes_eq, codes, if◌then◌else◌}
use Rattle.std.specs.List.{list_any}
use Rattle.std.proofs.lemmas.Bool.{and_parts}
use Rattle.es_tree.specs.Ancestors.{Ancestor, ancestor, has_new_target, has_super_calls, has_super_members, is_boundary, is_breakable, is_in_function, is_in_loop, is_module, place_of, stands_in}
use Rattle.es_tree.specs.CoreStaticRules.{is_bad_target, is_missing_init, is_stray_optional}
use Rattle.es_tree.specs.HasForm.{same_type}
use Rattle.es_tree.specs.Names.{first_text}
use Rattle.es_tree.specs.Scopes.{own_text}
use Rattle.es_tree.specs.StaticRules.{has_pattern, is_bad_for, is_bad_using, is_declaration, is_duplicate_label, is_label, is_lone_body, is_lone_declarator, is_loop_label, is_misplaced_meta, is_misplaced_module_item, is_misplaced_return, is_misplaced_super, is_missing_label, is_module_item, is_unmarked_callee, is_unmarked_object}
use Rattle.es_tree.specs.Tree.{Tree, node, Label, Fields, done, ◌then◌, Field, missing, one, many, statements, Trees, empty, ◌before◌, kind_of, label_of}
use Rattle.es_tree.specs.declared.ast_type.AstType.{AstType}
use Rattle.es_tree.specs.declared.ast_type.AstType.TheVariants.{BreakStatement, ContinueStatement, DoWhileStatement, ExportNamedDeclaration, ForInStatement, ForOfStatement, ForStatement, Identifier, IfStatement, LabeledStatement, MetaProperty, Program, ReturnStatement, Super, VariableDeclaration, VariableDeclarator, WhileStatement}
use Rattle.es_tree.specs.declared.place.Place.{Place}
use Rattle.es_tree.specs.declared.place.Place.TheVariants.{Other, Spine}
use Rattle.es_valid_steps.specs.PlaceRules.{Keeps, KeepsAll, KeepsBy, KeepsHere, KeepsIn}
use Rattle.es_valid_steps.proofs.Offers.{Near, Offers, PlaceOffers, SameHead, alike-self, near-within, offers-within}
use Rattle.es_valid_steps.proofs.Offers.PlaceOffers.{on_spine, same_place}

-- WITHOUT JUMPS: what can't be left by `break` and `continue`, and has no label, but inside functions, arrows and static blocks

abbrev pub is_jump : AstType → Bool
is_jump BreakStatement = true
is_jump ContinueStatement = true
is_jump LabeledStatement = true
is_jump _ = false

abbrev mutual
  pub jumpless : Tree → Bool
  jumpless (node k l fs) = not (is_jump k) && (is_boundary k || jumpless_in fs)

  pub jumpless_in : Fields → Bool
  jumpless_in done = true
  jumpless_in (f then fs) = jumpless_by f && jumpless_in fs

  pub jumpless_by : Field → Bool
  jumpless_by missing = true
  jumpless_by (one t) = jumpless t
  jumpless_by (many ts) = jumpless_all ts
  jumpless_by (statements ts) = jumpless_all ts

  pub jumpless_all : Trees → Bool
  jumpless_all empty = true
  jumpless_all (t before ts) = jumpless t && jumpless_all ts

-- THE RULES OF ONE NODE

pub not-more : (b c : Bool) → (b ≡ true → c ≡ true) → not b ≡ false → not c ≡ false
not-more true c h e = ap (λ v. not v) (h refl)
not-more false c h e = absurd (cc e)

not-true : (b : Bool) → not b ≡ true → b ≡ false
not-true true e = absurd (cc e)
not-true false e = refl

pub never-and : (b c : Bool) → c ≡ false → (b && c) ≡ false
never-and true c e = e
never-and false c e = refl

module _ (up vp : List Ancestor) where
  pub jump-moved : (jumps : Bool) → Offers jumps up vp → (t : Tree) → (jumps ≡ false → is_jump (kind_of t) ≡ false) → is_missing_label up t ≡ false → is_missing_label vp t ≡ false
  jump-moved true o (node BreakStatement l (one n then fs)) q h = ap (λ ls. not (list_any (is_label (own_text n)) ls)) o.labels ∙ h
  jump-moved true o (node BreakStatement l fs) q h = not-more (is_breakable up) (is_breakable vp) (o.breakable refl) h
  jump-moved true o (node ContinueStatement l (one n then fs)) q h = ap (λ ls. not (list_any (is_loop_label (own_text n)) ls)) o.labels ∙ h
  jump-moved true o (node ContinueStatement l fs) q h = not-more (is_in_loop up) (is_in_loop vp) (o.loop refl) h
  jump-moved false o (node BreakStatement l fs) q h = absurd (cc (q refl))
  jump-moved false o (node ContinueStatement l fs) q h = absurd (cc (q refl))
  jump-moved jumps o (node _ l fs) q h = refl

  pub return-moved : (t : Tree) → (is_in_function up ≡ true → is_in_function vp ≡ true) → is_misplaced_return up t ≡ false → is_misplaced_return vp t ≡ false
  return-moved (node ReturnStatement l fs) o h = not-more (is_in_function up) (is_in_function vp) o h
  return-moved (node _ l fs) o h = refl

  either-more : (a b c d x y z w : Bool) → (a ≡ true → x ≡ true) → (b ≡ true → y ≡ true) → (c ≡ true → z ≡ true) → (d ≡ true → w ≡ true) → not ((a && b) || (c && d)) ≡ false → not ((x && y) || (z && w)) ≡ false
  either-more true true c d x y z w f g h k e = rw (f refl, g refl) refl
  either-more true false true true x y z w f g h k e = rw (h refl, k refl) (last (x && y))
    where
      last : (b : Bool) → not (b || true) ≡ false
      last true = refl
      last false = refl
  either-more false b true true x y z w f g h k e = rw (h refl, k refl) (last (x && y))
    where
      last : (b : Bool) → not (b || true) ≡ false
      last true = refl
      last false = refl
  either-more true false true false x y z w f g h k e = absurd (cc e)
  either-more true false false d x y z w f g h k e = absurd (cc e)
  either-more false b true false x y z w f g h k e = absurd (cc e)
  either-more false b false d x y z w f g h k e = absurd (cc e)

  pub super-moved : (jumps : Bool) → Offers jumps up vp → (is_unmarked_callee up ≡ true → is_unmarked_callee vp ≡ true) → (is_unmarked_object up ≡ true → is_unmarked_object vp ≡ true) → (t : Tree) → is_misplaced_super up t ≡ false → is_misplaced_super vp t ≡ false
  super-moved jumps o c d (node Super l fs) h = either-more (is_unmarked_callee up) (has_super_calls up) (is_unmarked_object up) (has_super_members up) (is_unmarked_callee vp) (has_super_calls vp) (is_unmarked_object vp) (has_super_members vp) c o.calls d o.members h
  super-moved jumps o c d (node _ l fs) h = refl

  meta-more : (b : Bool) (x y m n : Bool) → (x ≡ true → y ≡ true) → n ≡ m → (if b then not x else not m) ≡ false → (if b then not y else not n) ≡ false
  meta-more true x y m n f e h = not-more x y f h
  meta-more false x y m n f e h = ap (λ v. not v) e ∙ h

  pub meta-moved : (jumps : Bool) → Offers jumps up vp → (t : Tree) → is_misplaced_meta up t ≡ false → is_misplaced_meta vp t ≡ false
  meta-moved jumps o (node MetaProperty l fs) h = meta-more (bytes_eq (first_text l.texts) (codes "new")) (has_new_target up) (has_new_target vp) (is_module up) (is_module vp) o.targets o.in_module h
  meta-moved jumps o (node _ l fs) h = refl

  stands-same : SameHead up vp → (k : AstType) (i : ℕ) → stands_in k i vp ≡ stands_in k i up
  stands-same s k i = at up vp s
    where
      at : (up vp : List Ancestor) → SameHead up vp → stands_in k i vp ≡ stands_in k i up
      at [] [] s = refl
      at (a ∷ up) (b ∷ vp) s = rw (s.kind, s.index) refl
      at [] (b ∷ vp) s = absurd s
      at (a ∷ up) [] s = absurd s

  callee-same : SameHead up vp → is_unmarked_callee vp ≡ is_unmarked_callee up
  callee-same s = at up vp s
    where
      at : (up vp : List Ancestor) → SameHead up vp → is_unmarked_callee vp ≡ is_unmarked_callee up
      at [] [] s = refl
      at (a ∷ up) (b ∷ vp) s = rw (s.kind, s.index, s.label) refl
      at [] (b ∷ vp) s = absurd s
      at (a ∷ up) [] s = absurd s

  object-same : SameHead up vp → is_unmarked_object vp ≡ is_unmarked_object up
  object-same s = at up vp s
    where
      at : (up vp : List Ancestor) → SameHead up vp → is_unmarked_object vp ≡ is_unmarked_object up
      at [] [] s = refl
      at (a ∷ up) (b ∷ vp) s = rw (s.kind, s.index, s.label) refl
      at [] (b ∷ vp) s = absurd s
      at (a ∷ up) [] s = absurd s

  label-moved : (jumps : Bool) → Offers jumps up vp → SameHead up vp → (t : Tree) → is_duplicate_label up t ≡ false → is_duplicate_label vp t ≡ false
  label-moved true o s (node Identifier l fs) h = (λ i. stands-same s LabeledStatement 0 i && list_any (is_label (first_text l.texts)) (o.labels i)) ∙ h
  label-moved false o s (node Identifier l fs) h = never-and (stands_in LabeledStatement 0 vp) _ (ap (λ ls. list_any (is_label (first_text l.texts)) ls) o.labels)
  label-moved jumps o s (node _ l fs) h = refl

  using-same : SameHead up vp → is_module vp ≡ is_module up → (t : Tree) → is_bad_using vp t ≡ is_bad_using up t
  using-same s m (node VariableDeclaration l (many ds then fs)) = λ i. bytes_eq (first_text l.texts) (codes "using") && (has_pattern ds || (stands-same s Program 1 i && not (m i)) || stands-same s ForInStatement 0 i || stands-same s ExportNamedDeclaration 0 i)
  using-same s m (node VariableDeclaration l fs) = refl
  using-same s m (node _ l fs) = refl

  head-same : SameHead up vp → (t : Tree) → is_bad_for vp t ≡ is_bad_for up t
  head-same s (node VariableDeclaration l (many ds then fs)) = λ i. (stands-same s ForInStatement 0 i || stands-same s ForOfStatement 0 i) && not (is_lone_declarator ds)
  head-same s (node VariableDeclaration l fs) = refl
  head-same s (node _ l fs) = refl

  item-same : SameHead up vp → is_module vp ≡ is_module up → (t : Tree) → is_misplaced_module_item vp t ≡ is_misplaced_module_item up t
  item-same s m t = λ i. is_module_item (kind_of t) && not (stands-same s Program 1 i && m i)

  lone-same : SameHead up vp → is_lone_body vp ≡ is_lone_body up
  lone-same s = λ i. stands-same s IfStatement 1 i || stands-same s IfStatement 2 i || stands-same s ForStatement 3 i || stands-same s ForInStatement 2 i || stands-same s ForOfStatement 2 i || stands-same s WhileStatement 1 i || stands-same s DoWhileStatement 0 i || stands-same s LabeledStatement 1 i

pub target-moved : (p q : Place) → PlaceOffers p q → (t : Tree) → is_bad_target p t ≡ false → is_bad_target q t ≡ false
target-moved p q (same_place r) t h = h
target-moved p q on_spine t h = refl

pub mark-moved : (p q : Place) → PlaceOffers p q → (t : Tree) → is_stray_optional p t ≡ false → is_stray_optional q t ≡ false
mark-moved p q (same_place r) t h = h
mark-moved p q on_spine t h = refl

pub spine-value : (t : Tree) → is_missing_init Spine t ≡ false
spine-value (node VariableDeclarator l fs) = refl
spine-value (node _ l fs) = refl

pub other-value : (t : Tree) → is_missing_init Other t ≡ false
other-value (node VariableDeclarator l fs) = refl
other-value (node _ l fs) = refl

pub value-moved : (p q : Place) → PlaceOffers p q → (t : Tree) → is_missing_init p t ≡ false → is_missing_init q t ≡ false
value-moved p q (same_place r) t h = h
value-moved p q on_spine t h = spine-value t

pub here-moved : (jumps : Bool) (up vp : List Ancestor) (t : Tree) → Offers jumps up vp → Near up vp → (jumps ≡ false → is_jump (kind_of t) ≡ false) → KeepsHere up t → KeepsHere vp t
here-moved jumps up vp t o n q h = record {
  jump = jump-moved up vp jumps o t q h.jump;
  label = label-moved up vp jumps o n.head t h.label;
  returned = return-moved up vp t o.function h.returned;
  super_word = super-moved up vp jumps o (λ e. callee-same up vp n.head ∙ e) (λ e. object-same up vp n.head ∙ e) t h.super_word;
  target = target-moved (place_of up) (place_of vp) n.place t h.target;
  chain = h.chain;
  mark = mark-moved (place_of up) (place_of vp) n.place t h.mark;
  deleted = h.deleted;
  value = value-moved (place_of up) (place_of vp) n.place t h.value;
  using_word = using-same up vp n.head o.in_module t ∙ h.using_word;
  head = head-same up vp n.head t ∙ h.head;
  item = item-same up vp n.head o.in_module t ∙ h.item;
  accessor = h.accessor;
  rest = n.rest t ∙ h.rest;
  declaration = (λ i. is_declaration (kind_of t) (label_of t) && lone-same up vp n.head i) ∙ h.declaration;
  meta = meta-moved up vp jumps o t h.meta;
}

-- EACH NODE

or-none : (a b : Bool) → (a || b) ≡ false → (a ≡ false) × (b ≡ false)
or-none true b e = absurd (cc e)
or-none false b e = (refl, e)

or-rest : (a b : Bool) → a ≡ false → (a || b) ≡ true → b ≡ true
or-rest true b e h = absurd (cc e)
or-rest false b e h = h

pub quiet-here : (k : AstType) (fs : Fields) → (not (is_jump k) && (is_boundary k || jumpless_in fs)) ≡ true → is_jump k ≡ false
quiet-here k fs h = not-true (is_jump k) (and_parts (not (is_jump k)) (is_boundary k || jumpless_in fs) h).0

pub quiet-in : (jumps : Bool) (k : AstType) (fs : Fields) → (jumps ≡ false → (not (is_jump k) && (is_boundary k || jumpless_in fs)) ≡ true) → (jumps || is_boundary k) ≡ false → jumpless_in fs ≡ true
quiet-in jumps k fs q e = let parts = or-none jumps (is_boundary k) e in or-rest (is_boundary k) (jumpless_in fs) parts.1 (and_parts (not (is_jump k)) (is_boundary k || jumpless_in fs) (q parts.0)).1

pub jump-labeled : (k : AstType) → is_jump k ≡ false → same_type k LabeledStatement ≡ false
jump-labeled LabeledStatement e = absurd (cc e)
jump-labeled _ e = refl

mutual
  pub keeps-moved : (jumps : Bool) (up vp : List Ancestor) (t : Tree) → Offers jumps up vp → Near up vp → (jumps ≡ false → jumpless t ≡ true) → Keeps up t → Keeps vp t
  keeps-moved jumps up vp (node k l fs) o n q h =
      let quiet : jumps ≡ false → same_type k LabeledStatement ≡ false = λ e. jump-labeled k (quiet-here k fs (q e)) in
      let offers : (j : ℕ) → Offers (jumps || is_boundary k) (ancestor k l fs j 0 ∷ up) (ancestor k l fs j 0 ∷ vp) = λ j. offers-within jumps up vp (ancestor k l fs j 0) (ancestor k l fs j 0) (alike-self _) o quiet in
      let near : (j : ℕ) → Near (ancestor k l fs j 0 ∷ up) (ancestor k l fs j 0 ∷ vp) = λ j. near-within up vp (ancestor k l fs j 0) (ancestor k l fs j 0) (alike-self _) n in
      (here-moved jumps up vp (node k l fs) o n (λ e. quiet-here k fs (q e)) h.0, in-moved (jumps || is_boundary k) up vp k l fs fs 0 fs offers near (quiet-in jumps k fs q) h.1)

  pub in-moved : (jumps : Bool) (up vp : List Ancestor) (k : AstType) (l : Label) (all now : Fields) (i : ℕ) (fs : Fields) → ((j : ℕ) → Offers jumps (ancestor k l all j 0 ∷ up) (ancestor k l now j 0 ∷ vp)) → ((j : ℕ) → Near (ancestor k l all j 0 ∷ up) (ancestor k l now j 0 ∷ vp)) → (jumps ≡ false → jumpless_in fs ≡ true) → KeepsIn up k l all i fs → KeepsIn vp k l now i fs
  in-moved jumps up vp k l all now i done o n q h = tt
  in-moved jumps up vp k l all now i (f then fs) o n q h = (
    by-moved jumps (ancestor k l all i 0 ∷ up) (ancestor k l now i 0 ∷ vp) f (o i) (n i) (λ e. (and_parts (jumpless_by f) (jumpless_in fs) (q e)).0) h.0,
    in-moved jumps up vp k l all now (suc i) fs o n (λ e. (and_parts (jumpless_by f) (jumpless_in fs) (q e)).1) h.1,
  )

  by-moved : (jumps : Bool) (up vp : List Ancestor) (f : Field) → Offers jumps up vp → Near up vp → (jumps ≡ false → jumpless_by f ≡ true) → KeepsBy up f → KeepsBy vp f
  by-moved jumps up vp missing o n q h = tt
  by-moved jumps up vp (one t) o n q h = keeps-moved jumps up vp t o n q h
  by-moved jumps up vp (many ts) o n q h = all-moved jumps up vp ts o n q h
  by-moved jumps up vp (statements ts) o n q h = all-moved jumps up vp ts o n q h

  pub all-moved : (jumps : Bool) (up vp : List Ancestor) (ts : Trees) → Offers jumps up vp → Near up vp → (jumps ≡ false → jumpless_all ts ≡ true) → KeepsAll up ts → KeepsAll vp ts
  all-moved jumps up vp empty o n q h = tt
  all-moved jumps up vp (t before ts) o n q h = (keeps-moved jumps up vp t o n (λ e. (and_parts (jumpless t) (jumpless_all ts) (q e)).0) h.0, all-moved jumps up vp ts o n (λ e. (and_parts (jumpless t) (jumpless_all ts) (q e)).1) h.1)
