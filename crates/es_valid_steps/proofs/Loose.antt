-- Expressions that stand at another place: where the parent is of a kind that no rule asks for.
use Rattle.std.proofs.Common.{◌≡◌, ℕ, zero, suc, refl, sym, ap, subst, ◌∙◌, List, [], ◌∷◌}
use Rattle.std.specs.Prelude.{Bool, true, false, not, ◌&&◌, ◌||◌, bytes_eq, codes}
use Rattle.std.specs.List.{list_any}
use Rattle.es_tree.specs.Ancestors.{Ancestor, ancestor, is_boundary, is_module, labels, leads_by, place_of, stands_in}
use Rattle.es_tree.specs.CoreStaticRules.{is_bad_target, is_missing_init, is_optional, is_simple_target, is_stray_optional, link_place, place_in}
use Rattle.es_tree.specs.HasForm.{same_type}
use Rattle.es_tree.specs.Names.{first_text}
use Rattle.es_tree.specs.Parens.{without_parens}
use Rattle.es_tree.specs.StaticRules.{has_pattern, is_bad_for, is_bad_rest, is_bad_using, is_declaration, is_duplicate_label, is_label, is_lone_body, is_lone_declarator, is_misplaced_module_item, is_misplaced_super, is_module_item}
use Rattle.es_tree.specs.Table.{own_kinds}
use Rattle.es_tree.specs.Tree.{Tree, node, Label, Fields, ◌then◌, many, kind_of, label_of}
use Rattle.es_tree.specs.declared.ast_type.AstType.{AstType}
use Rattle.es_tree.specs.declared.ast_type.AstType.TheVariants.{ArrayExpression, ArrowFunctionExpression, AssignmentExpression, AssignmentPattern, BinaryExpression, BlockStatement, CallExpression, CatchClause, ChainExpression, ConditionalExpression, ExportNamedDeclaration, ExportSpecifier, ForInStatement, ForOfStatement, FunctionBody, Identifier, ImportDeclaration, ImportNamespaceSpecifier, LabeledStatement, LogicalExpression, MemberExpression, ObjectExpression, ObjectPattern, ObjectTarget, ParenthesizedExpression, PatternProperty, Program, PropertyDefinition, RestElement, ReturnStatement, SequenceExpression, SpreadElement, StaticBlock, SwitchCase, TargetProperty, TargetRest, UnaryExpression, VariableDeclaration, VariableDeclarator}
use Rattle.es_tree.specs.declared.place.Place.{Place}
use Rattle.es_tree.specs.declared.place.Place.TheVariants.{Other, Spine, Target}
use Rattle.es_tree.specs.declared.table.Sort.{Sort}
use Rattle.es_runs.specs.OptionalChaining.{is_link}
use Rattle.es_valid_steps.specs.PlaceRules.{Keeps, KeepsHere}
use Rattle.es_valid_steps.proofs.Moves.{in-moved, is_jump, jumpless, jump-labeled, jump-moved, mark-moved, meta-moved, never-and, other-value, quiet-here, quiet-in, return-moved, target-moved, value-moved}
use Rattle.es_valid_steps.proofs.Offers.{Near, Offers, PlaceOffers, alike-self, offers-within}
use Rattle.es_valid_steps.proofs.Offers.PlaceOffers.{on_spine, same_place}

-- KINDS OF PARENTS

abbrev pub is_loose : AstType → Bool
is_loose ArrayExpression = true
is_loose ArrowFunctionExpression = true
is_loose CatchClause = true
is_loose ExportSpecifier = true
is_loose ImportDeclaration = true
is_loose ImportNamespaceSpecifier = true
is_loose ObjectExpression = true
is_loose SpreadElement = true
is_loose BlockStatement = true
is_loose FunctionBody = true
is_loose StaticBlock = true
is_loose SwitchCase = true
is_loose AssignmentExpression = true
is_loose AssignmentPattern = true
is_loose BinaryExpression = true
is_loose CallExpression = true
is_loose ChainExpression = true
is_loose ConditionalExpression = true
is_loose LogicalExpression = true
is_loose MemberExpression = true
is_loose ParenthesizedExpression = true
is_loose PatternProperty = true
is_loose PropertyDefinition = true
is_loose ReturnStatement = true
is_loose SequenceExpression = true
is_loose TargetProperty = true
is_loose UnaryExpression = true
is_loose _ = false

pub record Loose (up : List Ancestor) : Type 0 where
  pub label : stands_in LabeledStatement 0 up ≡ false
  pub top : stands_in Program 1 up ≡ false
  pub for_in : stands_in ForInStatement 0 up ≡ false
  pub for_of : stands_in ForOfStatement 0 up ≡ false
  pub exported : stands_in ExportNamedDeclaration 0 up ≡ false
  pub lone : is_lone_body up ≡ false
  pub rest : (t : Tree) → is_bad_rest up t ≡ false
  pub inner_rest : (a : Ancestor) (t : Tree) → is_bad_rest (a ∷ up) t ≡ false

-- what the rules of rests ask of a parent and of its parent
pub no-rest : (x y z w : Bool) → ((x && false && y) || (z && false && w)) ≡ false
no-rest true y true w = refl
no-rest true y false w = refl
no-rest false y true w = refl
no-rest false y false w = refl

module _ (l : Label) (all : Fields) (i n : ℕ) (up : List Ancestor) where
  plain-rest : (k : AstType) → is_loose k ≡ true → (t : Tree) → is_bad_rest (ancestor k l all i n ∷ up) t ≡ false
  plain-rest k e t = at k e up
    where
      at : (k : AstType) → is_loose k ≡ true → (up : List Ancestor) → is_bad_rest (ancestor k l all i n ∷ up) t ≡ false
      at k e [] = refl
      at ArrayExpression e (b ∷ up) = refl
      at ArrowFunctionExpression e (b ∷ up) = refl
      at CatchClause e (b ∷ up) = refl
      at ExportSpecifier e (b ∷ up) = refl
      at ImportDeclaration e (b ∷ up) = refl
      at ImportNamespaceSpecifier e (b ∷ up) = refl
      at ObjectExpression e (b ∷ up) = refl
      at SpreadElement e (b ∷ up) = refl
      at BlockStatement e (b ∷ up) = refl
      at FunctionBody e (b ∷ up) = refl
      at StaticBlock e (b ∷ up) = refl
      at SwitchCase e (b ∷ up) = refl
      at AssignmentExpression e (b ∷ up) = refl
      at AssignmentPattern e (b ∷ up) = refl
      at BinaryExpression e (b ∷ up) = refl
      at CallExpression e (b ∷ up) = refl
      at ChainExpression e (b ∷ up) = refl
      at ConditionalExpression e (b ∷ up) = refl
      at LogicalExpression e (b ∷ up) = refl
      at MemberExpression e (b ∷ up) = refl
      at ParenthesizedExpression e (b ∷ up) = refl
      at PatternProperty e (b ∷ up) = refl
      at PropertyDefinition e (b ∷ up) = refl
      at ReturnStatement e (b ∷ up) = refl
      at SequenceExpression e (b ∷ up) = refl
      at TargetProperty e (b ∷ up) = refl
      at UnaryExpression e (b ∷ up) = refl
      at _ e (b ∷ up) = absurd (cc e)

  abbrev NoPattern : AstType → Type 0
  NoPattern k = (same_type k ObjectPattern ≡ false) × (same_type k ObjectTarget ≡ false)

  no-pattern : (k : AstType) → is_loose k ≡ true → NoPattern k
  no-pattern ObjectPattern e = absurd (cc e)
  no-pattern ObjectTarget e = absurd (cc e)
  no-pattern _ e = (refl, refl)

  plain-inner : (k : AstType) → is_loose k ≡ true → (a : Ancestor) (t : Tree) → is_bad_rest (a ∷ (ancestor k l all i n ∷ up)) t ≡ false
  plain-inner k e a t =
      let p = no-pattern k e in
      (λ j. (leads_by RestElement 0 a && p.0 j && not (same_type (kind_of t) Identifier)) || (leads_by TargetRest 0 a && p.1 j && not (is_simple_target (kind_of (without_parens t))))) ∙ no-rest (leads_by RestElement 0 a) (not (same_type (kind_of t) Identifier)) (leads_by TargetRest 0 a) (not (is_simple_target (kind_of (without_parens t))))

  record Stands (k : AstType) : Type 0 where
    label : stands_in LabeledStatement 0 (ancestor k l all i n ∷ up) ≡ false
    top : stands_in Program 1 (ancestor k l all i n ∷ up) ≡ false
    for_in : stands_in ForInStatement 0 (ancestor k l all i n ∷ up) ≡ false
    for_of : stands_in ForOfStatement 0 (ancestor k l all i n ∷ up) ≡ false
    exported : stands_in ExportNamedDeclaration 0 (ancestor k l all i n ∷ up) ≡ false
    lone : is_lone_body (ancestor k l all i n ∷ up) ≡ false

  stands : (k : AstType) → is_loose k ≡ true → Stands k
  stands ArrayExpression e = record { label = refl; top = refl; for_in = refl; for_of = refl; exported = refl; lone = refl }
  stands ArrowFunctionExpression e = record { label = refl; top = refl; for_in = refl; for_of = refl; exported = refl; lone = refl }
  stands CatchClause e = record { label = refl; top = refl; for_in = refl; for_of = refl; exported = refl; lone = refl }
  stands ExportSpecifier e = record { label = refl; top = refl; for_in = refl; for_of = refl; exported = refl; lone = refl }
  stands ImportDeclaration e = record { label = refl; top = refl; for_in = refl; for_of = refl; exported = refl; lone = refl }
  stands ImportNamespaceSpecifier e = record { label = refl; top = refl; for_in = refl; for_of = refl; exported = refl; lone = refl }
  stands ObjectExpression e = record { label = refl; top = refl; for_in = refl; for_of = refl; exported = refl; lone = refl }
  stands SpreadElement e = record { label = refl; top = refl; for_in = refl; for_of = refl; exported = refl; lone = refl }
  stands BlockStatement e = record { label = refl; top = refl; for_in = refl; for_of = refl; exported = refl; lone = refl }
  stands FunctionBody e = record { label = refl; top = refl; for_in = refl; for_of = refl; exported = refl; lone = refl }
  stands StaticBlock e = record { label = refl; top = refl; for_in = refl; for_of = refl; exported = refl; lone = refl }
  stands SwitchCase e = record { label = refl; top = refl; for_in = refl; for_of = refl; exported = refl; lone = refl }
  stands AssignmentExpression e = record { label = refl; top = refl; for_in = refl; for_of = refl; exported = refl; lone = refl }
  stands AssignmentPattern e = record { label = refl; top = refl; for_in = refl; for_of = refl; exported = refl; lone = refl }
  stands BinaryExpression e = record { label = refl; top = refl; for_in = refl; for_of = refl; exported = refl; lone = refl }
  stands CallExpression e = record { label = refl; top = refl; for_in = refl; for_of = refl; exported = refl; lone = refl }
  stands ChainExpression e = record { label = refl; top = refl; for_in = refl; for_of = refl; exported = refl; lone = refl }
  stands ConditionalExpression e = record { label = refl; top = refl; for_in = refl; for_of = refl; exported = refl; lone = refl }
  stands LogicalExpression e = record { label = refl; top = refl; for_in = refl; for_of = refl; exported = refl; lone = refl }
  stands MemberExpression e = record { label = refl; top = refl; for_in = refl; for_of = refl; exported = refl; lone = refl }
  stands ParenthesizedExpression e = record { label = refl; top = refl; for_in = refl; for_of = refl; exported = refl; lone = refl }
  stands PatternProperty e = record { label = refl; top = refl; for_in = refl; for_of = refl; exported = refl; lone = refl }
  stands PropertyDefinition e = record { label = refl; top = refl; for_in = refl; for_of = refl; exported = refl; lone = refl }
  stands ReturnStatement e = record { label = refl; top = refl; for_in = refl; for_of = refl; exported = refl; lone = refl }
  stands SequenceExpression e = record { label = refl; top = refl; for_in = refl; for_of = refl; exported = refl; lone = refl }
  stands TargetProperty e = record { label = refl; top = refl; for_in = refl; for_of = refl; exported = refl; lone = refl }
  stands UnaryExpression e = record { label = refl; top = refl; for_in = refl; for_of = refl; exported = refl; lone = refl }
  stands _ e = absurd (cc e)

  pub loose : (k : AstType) → is_loose k ≡ true → Loose (ancestor k l all i n ∷ up)
  loose k e = let s = stands k e in record { label = s.label; top = s.top; for_in = s.for_in; for_of = s.for_of; exported = s.exported; lone = s.lone; rest = plain-rest k e; inner_rest = plain-inner k e }

-- PLACES: from the spine of a chain goes what is no link, and from that of a target a name or a member, maybe in parentheses

-- where any expression may stand, but for `super` and optional marks
pub data OpenPlace : Place → Type 0 where
  at_other : OpenPlace Other
  at_spine : OpenPlace Spine

pub data PlaceGoes (t : Tree) : Place → Place → Type 0 where
  within : {p q : Place} → PlaceOffers p q → PlaceGoes t p q
  off_spine : is_link t ≡ false → PlaceGoes t Spine Other
  off_target : {s : Sort} {q : Place} → is_simple_target (kind_of (without_parens t)) ≡ true → PlaceGoes t (Target s) q

link-first : (k : AstType) (l : Label) (fs : Fields) (i : ℕ) → is_link (node k l fs) ≡ false → place_in Spine k l i ≡ place_in Other k l i
link-first k l fs (suc zero) e = refl
link-first k l fs (suc (suc i)) e = refl
link-first MemberExpression l fs zero e = absurd (cc e)
link-first CallExpression l fs zero e = absurd (cc e)
link-first _ l fs zero e = refl

place-goes : (k : AstType) (l : Label) (fs : Fields) (p q : Place) → PlaceGoes (node k l fs) p q → (i : ℕ) → PlaceOffers (place_in p k l i) (place_in q k l i)
place-goes k l fs p q (within (same_place r)) i = same_place (place_in r k l i)
place-goes k l fs p q (within on_spine) i = spine-in k l i
  where
    spine-in : (k : AstType) (l : Label) (i : ℕ) → PlaceOffers (place_in Other k l i) (place_in Spine k l i)
    spine-in k l (suc zero) = same_place _
    spine-in k l (suc (suc i)) = same_place _
    spine-in MemberExpression l zero = on_spine
    spine-in CallExpression l zero = on_spine
    spine-in _ l zero = same_place _
place-goes k l fs p q (off_target {s = s} e) i = target-in k l fs i e
  where
    member-in : (q : Place) → PlaceOffers Other (link_place q)
    member-in Spine = on_spine
    member-in _ = same_place _

    target-in : (k : AstType) (l : Label) (fs : Fields) (i : ℕ) → is_simple_target (kind_of (without_parens (node k l fs))) ≡ true → PlaceOffers (place_in (Target s) k l i) (place_in q k l i)
    target-in k l fs (suc zero) e = same_place _
    target-in k l fs (suc (suc i)) e = same_place _
    target-in Identifier l fs zero e = same_place _
    target-in MemberExpression l fs zero e = member-in q
    target-in ParenthesizedExpression l fs zero e = same_place _
    target-in _ l fs zero e = absurd (cc e)
place-goes k l fs p q (off_spine e) i = subst (λ (r : Place). PlaceOffers (place_in Spine k l i) r) (link-first k l fs i e) (same_place (place_in Spine k l i))

-- what is simple is no bad target anywhere
pub simple-target : (p : Place) (t : Tree) → is_simple_target (kind_of (without_parens t)) ≡ true → is_bad_target p t ≡ false
simple-target (Target s) t e = ap (λ v. not (list_any (same_type (kind_of t)) (own_kinds s) || v)) e ∙ last (list_any (same_type (kind_of t)) (own_kinds s))
  where
    last : (b : Bool) → not (b || true) ≡ false
    last true = refl
    last false = refl
simple-target _ t e = refl

goes-target : (t : Tree) (p q : Place) → PlaceGoes t p q → is_bad_target p t ≡ false → is_bad_target q t ≡ false
goes-target t p q (within o) h = target-moved p q o t h
goes-target t p q (off_spine e) h = refl
goes-target t p q (off_target e) h = simple-target q t e

no-mark : (t : Tree) → is_link t ≡ false → is_optional (kind_of t) (label_of t) ≡ false
no-mark (node MemberExpression l fs) e = absurd (cc e)
no-mark (node CallExpression l fs) e = absurd (cc e)
no-mark (node _ l fs) e = refl

goes-mark : (t : Tree) (p q : Place) → PlaceGoes t p q → is_stray_optional p t ≡ false → is_stray_optional q t ≡ false
goes-mark t p q (within o) h = mark-moved p q o t h
goes-mark t p q (off_spine e) h = no-mark t e
goes-mark t p q (off_target e) h = off-mark q h
  where
    off-mark : (q : Place) → is_optional (kind_of t) (label_of t) ≡ false → is_stray_optional q t ≡ false
    off-mark Spine d = refl
    off-mark _ d = d

simple-value : (q : Place) (t : Tree) → is_simple_target (kind_of (without_parens t)) ≡ true → is_missing_init q t ≡ false
simple-value q (node VariableDeclarator l fs) e = absurd (cc e)
simple-value q (node _ l fs) e = refl

goes-value : (t : Tree) (p q : Place) → PlaceGoes t p q → is_missing_init p t ≡ false → is_missing_init q t ≡ false
goes-value t p q (within o) h = value-moved p q o t h
goes-value t p q (off_spine e) h = other-value t
goes-value t p q (off_target e) h = simple-value q t e

-- FROM ONE PLACE TO ANOTHER, where no rule asks for either of them

pub record Reaches (up vp : List Ancestor) : Type 0 where
  pub from_top : stands_in Program 1 up ≡ false
  pub top : stands_in Program 1 vp ≡ false
  pub label : stands_in LabeledStatement 0 vp ≡ false
  pub for_in : stands_in ForInStatement 0 vp ≡ false
  pub for_of : stands_in ForOfStatement 0 vp ≡ false
  pub exported : stands_in ExportNamedDeclaration 0 vp ≡ false
  pub lone : is_lone_body vp ≡ false
  pub rest : (t : Tree) → is_bad_rest vp t ≡ false
  pub inner_rest : (a : Ancestor) (t : Tree) → is_bad_rest (a ∷ vp) t ≡ is_bad_rest (a ∷ up) t

module _ (up vp : List Ancestor) (b : Reaches up vp) where
  label-gone : (t : Tree) → is_duplicate_label vp t ≡ false
  label-gone (node Identifier l fs) = λ i. b.label i && list_any (is_label (first_text l.texts)) (labels vp)
  label-gone (node _ l fs) = refl

  using-gone : (t : Tree) → is_bad_using up t ≡ false → is_bad_using vp t ≡ false
  using-gone (node VariableDeclaration l (many ds then fs)) h = (λ i. bytes_eq (first_text l.texts) (codes "using") && (has_pattern ds || (b.top i && not (is_module vp)) || b.for_in i || b.exported i)) ∙ less (bytes_eq (first_text l.texts) (codes "using")) (has_pattern ds) _ _ _ h
    where
      less : (w h x y z : Bool) → (w && (h || x || y || z)) ≡ false → (w && (h || false || false || false)) ≡ false
      less true true x y z e = absurd (cc e)
      less true false x y z e = refl
      less false h x y z e = refl
  using-gone (node VariableDeclaration l fs) h = refl
  using-gone (node _ l fs) h = refl

  head-gone : (t : Tree) → is_bad_for vp t ≡ false
  head-gone (node VariableDeclaration l (many ds then fs)) = λ i. (b.for_in i || b.for_of i) && not (is_lone_declarator ds)
  head-gone (node VariableDeclaration l fs) = refl
  head-gone (node _ l fs) = refl

  item-gone : (t : Tree) → is_misplaced_module_item up t ≡ false → is_misplaced_module_item vp t ≡ false
  item-gone t h = (λ i. is_module_item (kind_of t) && not (b.top i && is_module vp)) ∙ sym (λ i. is_module_item (kind_of t) && not (b.from_top i && is_module up)) ∙ h

  -- where all that it asks is offered
  here-reaches : (jumps : Bool) → Offers jumps up vp → (t : Tree) → (is_misplaced_super up t ≡ false → is_misplaced_super vp t ≡ false) → PlaceGoes t (place_of up) (place_of vp) → (jumps ≡ false → is_jump (kind_of t) ≡ false) → KeepsHere up t → KeepsHere vp t
  here-reaches jumps o t c p q h = record {
    jump = jump-moved up vp jumps o t q h.jump;
    label = label-gone t;
    returned = return-moved up vp t o.function h.returned;
    super_word = c h.super_word;
    target = goes-target t (place_of up) (place_of vp) p h.target;
    chain = h.chain;
    mark = goes-mark t (place_of up) (place_of vp) p h.mark;
    deleted = h.deleted;
    value = goes-value t (place_of up) (place_of vp) p h.value;
    using_word = using-gone t h.using_word;
    head = head-gone t;
    item = item-gone t h.item;
    accessor = h.accessor;
    rest = b.rest t;
    declaration = never-and (is_declaration (kind_of t) (label_of t)) (is_lone_body vp) b.lone;
    meta = meta-moved up vp jumps o t h.meta;
  }

  pub reaches : (jumps : Bool) → Offers jumps up vp → (t : Tree) → (is_misplaced_super up t ≡ false → is_misplaced_super vp t ≡ false) → PlaceGoes t (place_of up) (place_of vp) → (jumps ≡ false → jumpless t ≡ true) → Keeps up t → Keeps vp t
  reaches jumps o (node k l fs) c p q h =
      let quiet : jumps ≡ false → same_type k LabeledStatement ≡ false = λ e. jump-labeled k (quiet-here k fs (q e)) in
      let offers : (j : ℕ) → Offers (jumps || is_boundary k) (ancestor k l fs j 0 ∷ up) (ancestor k l fs j 0 ∷ vp) = λ j. offers-within jumps up vp (ancestor k l fs j 0) (ancestor k l fs j 0) (alike-self _) o quiet in
      let near : (j : ℕ) → Near (ancestor k l fs j 0 ∷ up) (ancestor k l fs j 0 ∷ vp) = λ j. record { place = place-goes k l fs (place_of up) (place_of vp) p j; head = alike-self _; rest = λ t. b.inner_rest (ancestor k l fs j 0) t } in
      (here-reaches jumps o (node k l fs) c p (λ e. quiet-here k fs (q e)) h.0, in-moved (jumps || is_boundary k) up vp k l fs fs 0 fs offers near (quiet-in jumps k fs q) h.1)

-- from one loose place to another
pub goes : (up vp : List Ancestor) → Loose up → Loose vp → (jumps : Bool) → Offers jumps up vp → (t : Tree) → (is_misplaced_super up t ≡ false → is_misplaced_super vp t ≡ false) → PlaceGoes t (place_of up) (place_of vp) → (jumps ≡ false → jumpless t ≡ true) → Keeps up t → Keeps vp t
goes up vp a b = reaches up vp (record { from_top = a.top; top = b.top; label = b.label; for_in = b.for_in; for_of = b.for_of; exported = b.exported; lone = b.lone; rest = b.rest; inner_rest = λ c t. b.inner_rest c t ∙ sym (a.inner_rest c t) })
