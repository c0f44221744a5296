-- Nodes that rows make of expressions that keep the rules of places wherever there is room.
use Rattle.std.proofs.Common.{◌≡◌, refl, sym, ap, ◌∙◌, List, [], ◌∷◌}
use Rattle.std.specs.Prelude.{Bool, true, false, not, ◌&&◌, ◌||◌, codes, Some}
use Rattle.std.specs.List.{list_any}
use Rattle.es_tree.specs.Ancestors.{Ancestor, leads_by, place_of}
use Rattle.es_tree.specs.CoreStaticRules.{is_bad_delete, is_bad_target, is_optional, is_simple_target, link_place}
use Rattle.es_tree.specs.HasForm.{same_type}
use Rattle.es_tree.specs.Parens.{without_parens}
use Rattle.es_tree.specs.StaticRules.{is_bad_rest, is_duplicate_label, is_lone_body}
use Rattle.es_tree.specs.Table.{own_kinds}
use Rattle.es_tree.specs.Tree.{Tree, node, Label, Fields, done, ◌then◌, one, many, Trees, empty, ◌before◌, kind_of}
use Rattle.es_tree.specs.declared.ast_type.AstType.{AstType}
use Rattle.es_tree.specs.declared.ast_type.AstType.TheVariants.{AssignmentExpression, BinaryExpression, CallExpression, ChainExpression, ConditionalExpression, Identifier, LogicalExpression, MemberExpression, NullLiteral, NumericLiteral, ObjectExpression, ObjectPattern, ObjectTarget, RestElement, SequenceExpression, TargetRest, UnaryExpression}
use Rattle.es_tree.specs.declared.place.Place.{Place}
use Rattle.es_tree.specs.declared.place.Place.TheVariants.{Spine, Target}
use Rattle.es_tree.specs.declared.table.Sort.{Sort}
use Rattle.es_tree.specs.declared.table.Sort.TheVariants.{Expression as s-Expression}
use Rattle.es_runs.proofs.RowKinds.{is_left_kind}
use Rattle.es_runs.specs.Rules.{null_node, void_zero_node}
use Rattle.es_steps.specs.Nodes.{made}
use Rattle.es_valid_steps.specs.PlaceRules.{Keeps, KeepsHere, KeepsIn}
use Rattle.es_valid_steps.proofs.Free.{Free, FreeAll, FreeAs, Under, is_quiet, made-here, made-there, quiet, room-in, unmarked}
use Rattle.es_valid_steps.proofs.Free.Under.{deeper, itself}
use Rattle.es_valid_steps.proofs.Loose.{Loose, OpenPlace, loose, simple-target}
use Rattle.es_valid_steps.proofs.Loose.OpenPlace.{at_other, at_spine}

link-open : (p : Place) → OpenPlace (link_place p)
link-open Spine = at_spine
link-open _ = at_other

-- what stands in the fields of a node keeps the rules wherever the node is put below
abbrev pub Inside : List Ancestor → AstType → Label → Fields → Type 0
Inside up k l fs = (vp : List Ancestor) → Under up vp → KeepsIn vp k l fs 0 fs

-- what is written keeps them as a target
abbrev pub FreeTarget : List Ancestor → Tree → Type 0
FreeTarget up t = (vp : List Ancestor) → Under up vp → Loose vp → Keeps vp t

module _ (up : List Ancestor) where
  pub free-node : (k : AstType) (l : Label) (fs : Fields) → is_quiet k ≡ true → is_optional k l ≡ false → is_bad_delete (node k l fs) ≡ false → Inside up k l fs → Free up (node k l fs)
  free-node k l fs e m d h vp r = (made-here up vp k l fs r e m d, h vp r.under)

  -- FIELDS

  pub in-logical : (l : Label) (a b : Tree) → Free up a → Free up b → Inside up LogicalExpression l (one a then one b then done)
  in-logical l a b f g vp u = (f _ (room-in up vp LogicalExpression l _ 0 refl u at_other), (g _ (room-in up vp LogicalExpression l _ 1 refl u at_other), tt))

  pub in-binary : (l : Label) (a b : Tree) → Free up a → Free up b → Inside up BinaryExpression l (one a then one b then done)
  in-binary l a b f g vp u = (f _ (room-in up vp BinaryExpression l _ 0 refl u at_other), (g _ (room-in up vp BinaryExpression l _ 1 refl u at_other), tt))

  pub in-conditional : (l : Label) (a b c : Tree) → Free up a → Free up b → Free up c → Inside up ConditionalExpression l (one a then one b then one c then done)
  in-conditional l a b c f g h vp u = (f _ (room-in up vp ConditionalExpression l _ 0 refl u at_other), (g _ (room-in up vp ConditionalExpression l _ 1 refl u at_other), (h _ (room-in up vp ConditionalExpression l _ 2 refl u at_other), tt)))

  pub in-unary : (l : Label) (a : Tree) → Free up a → Inside up UnaryExpression l (one a then done)
  in-unary l a f vp u = (f _ (room-in up vp UnaryExpression l _ 0 refl u at_other), tt)

  pub in-sequence : (l : Label) (ts : Trees) → FreeAll up ts → Inside up SequenceExpression l (many ts then done)
  in-sequence l ts f vp u = (f _ (room-in up vp SequenceExpression l _ 0 refl u at_other), tt)

  pub in-member : (l : Label) (o p : Tree) → is_optional MemberExpression l ≡ false → FreeAs false true up o → Free up p → Inside up MemberExpression l (one o then one p then done)
  in-member l o p e f g vp u = (f _ (room-in up vp MemberExpression l _ 0 refl u (link-open (place_of vp))) (λ d. absurd (cc d)) (λ d. ap (λ v. not v) e), (g _ (room-in up vp MemberExpression l _ 1 refl u at_other), tt))

  pub in-call : (l : Label) (f : Tree) (ts : Trees) → is_optional CallExpression l ≡ false → FreeAs true false up f → FreeAll up ts → Inside up CallExpression l (one f then many ts then done)
  in-call l f ts e g h vp u = (g _ (room-in up vp CallExpression l _ 0 refl u (link-open (place_of vp))) (λ d. ap (λ v. not v) e) (λ d. absurd (cc d)), (h _ (room-in up vp CallExpression l _ 1 refl u at_other), tt))

  pub in-assignment : (l : Label) (t e : Tree) → FreeTarget up t → Free up e → Inside up AssignmentExpression l (one t then one e then done)
  in-assignment l t e f g vp u = (f _ (deeper refl u) (loose l _ 0 0 vp AssignmentExpression refl), (g _ (room-in up vp AssignmentExpression l _ 1 refl u at_other), tt))

  pub name-target : (l : Label) → FreeTarget up (node Identifier l done)
  name-target l vp u s = (made-there vp Identifier l done s (simple-target (place_of vp) (node Identifier l done) refl) refl refl refl, tt)

  pub member-target : (l : Label) (o p : Tree) → is_optional MemberExpression l ≡ false → FreeAs false true up o → Free up p → FreeTarget up (node MemberExpression l (one o then one p then done))
  member-target l o p e f g vp u s = (made-there vp MemberExpression l _ s (simple-target (place_of vp) (node MemberExpression l (one o then one p then done)) refl) refl e refl, in-member l o p e f g vp u)

  -- NODES

  pub free-name : (l : Label) → Free up (node Identifier l done)
  free-name l = free-node Identifier l done refl refl refl (λ vp u. tt)

  pub free-leaf : (k : AstType) (l : Label) → is_quiet k ≡ true → is_optional k l ≡ false → is_bad_delete (node k l done) ≡ false → Free up (node k l done)
  free-leaf k l e m d = free-node k l done e m d (λ vp u. tt)

  pub free-null : Free up null_node
  free-null = free-leaf NullLiteral _ refl refl refl

  pub free-zero : Free up void_zero_node
  free-zero =
      let zero_label = made (Some (codes "0") ∷ Some (codes "0") ∷ []) [] in
      free-node UnaryExpression (made (Some (codes "void") ∷ []) []) (one (node NumericLiteral zero_label done) then done) refl refl refl (in-unary (made (Some (codes "void") ∷ []) []) (node NumericLiteral zero_label done) (free-leaf NumericLiteral zero_label refl refl refl))

  pub free-logical : (l : Label) (a b : Tree) → Free up a → Free up b → Free up (node LogicalExpression l (one a then one b then done))
  free-logical l a b f g = free-node LogicalExpression l _ refl refl refl (in-logical l a b f g)

  pub free-binary : (l : Label) (a b : Tree) → Free up a → Free up b → Free up (node BinaryExpression l (one a then one b then done))
  free-binary l a b f g = free-node BinaryExpression l _ refl refl refl (in-binary l a b f g)

  pub free-member : (l : Label) (o p : Tree) → is_optional MemberExpression l ≡ false → FreeAs false true up o → Free up p → Free up (node MemberExpression l (one o then one p then done))
  free-member l o p e f g = free-node MemberExpression l _ refl e refl (in-member l o p e f g)

  pub free-call : (l : Label) (f : Tree) (ts : Trees) → is_optional CallExpression l ≡ false → FreeAs true false up f → FreeAll up ts → Free up (node CallExpression l (one f then many ts then done))
  free-call l f ts e g h = free-node CallExpression l _ refl e refl (in-call l f ts e g h)

  pub free-assignment : (l : Label) (t e : Tree) → FreeTarget up t → Free up e → Free up (node AssignmentExpression l (one t then one e then done))
  free-assignment l t e f g = free-node AssignmentExpression l _ refl refl refl (in-assignment l t e f g)

  pub free-object : (l : Label) (ts : Trees) → FreeAll up ts → Free up (node ObjectExpression l (many ts then done))
  free-object l ts f = free-node ObjectExpression l (many ts then done) refl refl refl (λ vp u. (f _ (room-in up vp ObjectExpression l (many ts then done) 0 refl u at_other), tt))

  pub free-more : (t : Tree) (ts : Trees) → Free up t → FreeAll up ts → FreeAll up (t before ts)
  free-more t ts f g vp r = (f vp r, g vp r)

  pub free-empty : FreeAll up empty
  free-empty vp r = tt

-- WHERE A RULE ACTS on an expression: what stood there was no target and no rest

abbrev pub is_acted : AstType → Bool
is_acted AssignmentExpression = true
is_acted BinaryExpression = true
is_acted ChainExpression = true
is_acted LogicalExpression = true
is_acted ObjectExpression = true
is_acted UnaryExpression = true
is_acted _ = false

not-own : (s : Sort) (k : AstType) → is_acted k ≡ true → list_any (same_type k) (own_kinds s) ≡ false
not-own s LogicalExpression h = at s
  where
    at : (s : Sort) → list_any (same_type LogicalExpression) (own_kinds s) ≡ false
    at s-Expression = refl
    at _ = refl
not-own s BinaryExpression h = at s
  where
    at : (s : Sort) → list_any (same_type BinaryExpression) (own_kinds s) ≡ false
    at s-Expression = refl
    at _ = refl
not-own s AssignmentExpression h = at s
  where
    at : (s : Sort) → list_any (same_type AssignmentExpression) (own_kinds s) ≡ false
    at s-Expression = refl
    at _ = refl
not-own s ChainExpression h = at s
  where
    at : (s : Sort) → list_any (same_type ChainExpression) (own_kinds s) ≡ false
    at s-Expression = refl
    at _ = refl
not-own s UnaryExpression h = at s
  where
    at : (s : Sort) → list_any (same_type UnaryExpression) (own_kinds s) ≡ false
    at s-Expression = refl
    at _ = refl
not-own s ObjectExpression h = at s
  where
    at : (s : Sort) → list_any (same_type ObjectExpression) (own_kinds s) ≡ false
    at s-Expression = refl
    at _ = refl
not-own s _ h = absurd (cc h)

pub row-simple : (t : Tree) → is_acted (kind_of t) ≡ true → is_simple_target (kind_of (without_parens t)) ≡ false
row-simple (node LogicalExpression l fs) h = refl
row-simple (node BinaryExpression l fs) h = refl
row-simple (node AssignmentExpression l fs) h = refl
row-simple (node ChainExpression l fs) h = refl
row-simple (node UnaryExpression l fs) h = refl
row-simple (node ObjectExpression l fs) h = refl
row-simple (node _ l fs) h = absurd (cc h)

row-name : (k : AstType) → is_acted k ≡ true → same_type k Identifier ≡ false
row-name Identifier h = absurd (cc h)
row-name _ h = refl

row-target : (p : Place) (t u : Tree) → is_acted (kind_of t) ≡ true → is_bad_target p t ≡ false → is_bad_target p u ≡ false
row-target (Target s) t u e h =
    let broken : is_bad_target (Target s) t ≡ true = λ i. not (not-own s (kind_of t) e i || row-simple t e i) in
    absurd (cc (h, broken))
row-target _ t u e h = refl

row-rest : (up : List Ancestor) (t u : Tree) → is_acted (kind_of t) ≡ true → is_bad_rest up t ≡ false → is_bad_rest up u ≡ false
row-rest [] t u e h = refl
row-rest (a ∷ []) t u e h = refl
row-rest (a ∷ (b ∷ up)) t u e h =
    gone (leads_by RestElement 0 a) (same_type b.kind ObjectPattern) (leads_by TargetRest 0 a) (same_type b.kind ObjectTarget) (not (same_type (kind_of u) Identifier)) (not (is_simple_target (kind_of (without_parens u))))
    (sym (λ i. (leads_by RestElement 0 a && same_type b.kind ObjectPattern && not (row-name (kind_of t) e i)) || (leads_by TargetRest 0 a && same_type b.kind ObjectTarget && not (row-simple t e i))) ∙ h)
  where
    gone : (p q r s x y : Bool) → ((p && q && true) || (r && s && true)) ≡ false → ((p && q && x) || (r && s && y)) ≡ false
    gone true true r s x y e = absurd (cc e)
    gone true false true true x y e = absurd (cc e)
    gone true false true false x y e = refl
    gone true false false s x y e = refl
    gone false q true true x y e = absurd (cc e)
    gone false q true false x y e = refl
    gone false q false s x y e = refl

left-quiet : (k : AstType) → is_left_kind k ≡ true → is_quiet k ≡ true
left-quiet AssignmentExpression e = refl
left-quiet CallExpression e = refl
left-quiet ConditionalExpression e = refl
left-quiet LogicalExpression e = refl
left-quiet SequenceExpression e = refl
left-quiet _ e = absurd (cc e)

left-label : (up : List Ancestor) (k : AstType) (l : Label) (fs : Fields) → is_left_kind k ≡ true → is_duplicate_label up (node k l fs) ≡ false
left-label up Identifier l fs e = absurd (cc e)
left-label up _ l fs e = refl

left-deleted : (k : AstType) (l : Label) (fs : Fields) → is_left_kind k ≡ true → is_bad_delete (node k l fs) ≡ false
left-deleted UnaryExpression l fs e = absurd (cc e)
left-deleted _ l fs e = refl

-- what a row leaves keeps the rules of its own where the node kept them on which it acts
pub left-here : (up : List Ancestor) (t : Tree) (k : AstType) (l : Label) (fs : Fields) → is_acted (kind_of t) ≡ true → KeepsHere up t → is_left_kind k ≡ true → is_optional k l ≡ false → KeepsHere up (node k l fs)
left-here up t k l fs row h e m =
    let q = quiet l fs k (left-quiet k e) in
    record {
      jump = q.jump up;
      label = left-label up k l fs e;
      returned = q.returned up;
      super_word = q.super_word up;
      target = row-target (place_of up) t (node k l fs) row h.target;
      chain = q.chain;
      mark = unmarked (place_of up) k l fs m;
      deleted = left-deleted k l fs e;
      value = q.value (place_of up);
      using_word = q.using_word up;
      head = q.head up;
      item = q.item up;
      accessor = q.accessor;
      rest = row-rest up t (node k l fs) row h.rest;
      declaration = ap (λ v. v && is_lone_body up) q.declaration;
      meta = q.meta up;
    }

pub left-keeps : (up : List Ancestor) (t : Tree) (k : AstType) (l : Label) (fs : Fields) → is_acted (kind_of t) ≡ true → KeepsHere up t → is_left_kind k ≡ true → is_optional k l ≡ false → Inside up k l fs → Keeps up (node k l fs)
left-keeps up t k l fs row h e m g = (left-here up t k l fs row h e m, g up itself)
