-- Where a node stands, as far as the constructors of classes that extend others ask, its ancestors say too.
use Rattle.std.proofs.Common.{◌≡◌, ℕ, zero, suc, refl, List, [], ◌∷◌}
use Rattle.std.specs.Prelude.{Bool, true, false, ◌&&◌, ◌==◌, bytes_eq, codes, if◌then◌else◌, is_some}
use Rattle.std.proofs.lemmas.Bool.{and_from, and_parts}
use Rattle.es_tree.specs.Ancestors.{Ancestor, ancestor, is_class, is_derived, is_derived_constructor, leads_by}
use Rattle.es_tree.specs.Children.{child_at}
use Rattle.es_tree.specs.HasForm.{same_type}
use Rattle.es_tree.specs.Names.{first_text}
use Rattle.es_tree.specs.Tree.{Tree, Label, Fields, done, ◌then◌, missing, one, many, statements}
use Rattle.es_tree.specs.declared.ast_type.AstType.{AstType}
use Rattle.es_tree.specs.declared.ast_type.AstType.TheVariants.{FunctionExpression, MethodDefinition}
use Rattle.es_semantic.specs.RolesOf.{extends}
use Rattle.es_steps.specs.Open.{OpenField, OpenFields, body, child, children, gap, is_body as may_be_body, is_statement_body, list, opened, opened_field, opened_fields, nothing_pending, ◌and◌}
use Rattle.es_steps.specs.Steps.{outline}
use Rattle.es_super_calls.specs.Constructors.{is_body, is_constructor, is_member, standing_in}
use Rattle.es_super_calls.specs.declared.standing.ClassStanding.{ClassStanding}
use Rattle.es_super_calls.specs.declared.standing.ClassStanding.TheVariants.{Body, Constructor, Elsewhere, Member}
use Rattle.es_constructor_this.specs.SetRows.{is_constructor_body}

-- these ancestors say so
abbrev pub stands_so : ClassStanding → List Ancestor → Bool
stands_so Elsewhere up = true
stands_so Member [] = false
stands_so Member (c ∷ up) = is_derived c
stands_so Constructor up = is_derived_constructor up
stands_so Body up = is_constructor_body up

-- OUTLINES say which fields are missing

one-outlined : (v : Bool) (t : Tree) (gs : OpenFields) → is_some (child_at 0 (outline (opened_field v (one t) and gs))) ≡ true
one-outlined true t gs = at (is_statement_body t)
  where
    at : (b : Bool) → is_some (child_at 0 (outline ((if b then child (opened t) else body nothing_pending (opened t)) and gs))) ≡ true
    at true = refl
    at false = refl
one-outlined false t gs = refl

later-outlined : (j : ℕ) (g : OpenField) (gs : OpenFields) → child_at (suc j) (outline (g and gs)) ≡ child_at j (outline gs)
later-outlined j gap gs = refl
later-outlined j (child t) gs = refl
later-outlined j (body p t) gs = refl
later-outlined j (children ts) gs = refl
later-outlined j (list p x a ts) gs = refl

child-outlined : (j : ℕ) (bodies : ℕ → Bool) (fs : Fields) → is_some (child_at j fs) ≡ true → is_some (child_at j (outline (opened_fields bodies fs))) ≡ true
child-outlined j bodies done h = absurd (cc h)
child-outlined zero bodies (one t then fs) h = one-outlined (bodies zero) t (opened_fields (λ i. bodies (suc i)) fs)
child-outlined zero bodies (missing then fs) h = absurd (cc h)
child-outlined zero bodies (many ts then fs) h = absurd (cc h)
child-outlined zero bodies (statements ts then fs) h = absurd (cc h)
child-outlined (suc j) bodies (f then fs) h = rw (later-outlined j (opened_field (bodies zero) f) (opened_fields (λ i. bodies (suc i)) fs)) (child-outlined j (λ i. bodies (suc i)) fs h)

-- INWARDS

in-class : (s : ClassStanding) (up : List Ancestor) (a : Ancestor) → is_member s ≡ true → stands_so s up ≡ true →
    (leads_by MethodDefinition 1 a && bytes_eq (first_text a.label.texts) (codes "constructor")) ≡ true → is_derived_constructor (a ∷ up) ≡ true
in-class Member (c ∷ up) a m so e = and_from (leads_by MethodDefinition 1 a && bytes_eq (first_text a.label.texts) (codes "constructor")) (is_derived c) e so
in-class Member [] a m so e = absurd (cc so)
in-class _ up a m so e = absurd (cc m)

in-constructor : (s : ClassStanding) (up : List Ancestor) → is_constructor s ≡ true → stands_so s up ≡ true → is_derived_constructor up ≡ true
in-constructor Constructor up m so = so
in-constructor _ up m so = absurd (cc m)

pub as-body : (s : ClassStanding) (up : List Ancestor) → is_body s ≡ true → stands_so s up ≡ true → is_constructor_body up ≡ true
as-body Body up m so = so
as-body _ up m so = absurd (cc m)

module _ (s : ClassStanding) (up : List Ancestor) (so : stands_so s up ≡ true) (k : AstType) (l : Label) (fs : Fields) (i : ℕ) where
  abbrev above : List Ancestor
  above = ancestor k l (outline (opened_fields (may_be_body k) fs)) i 0 ∷ up

  pub inwards : stands_so (standing_in s k l fs i) above ≡ true
  inwards = as-member (is_class k && i == 2 && extends fs) refl
    where
      in-body : (b : Bool) → (is_constructor s && same_type k FunctionExpression && i == 2) ≡ b → stands_so (if b then Body else Elsewhere) above ≡ true
      in-body true e =
          let parts = and_parts (is_constructor s && same_type k FunctionExpression) (i == 2) e in
          let both = and_parts (is_constructor s) (same_type k FunctionExpression) parts.0 in
          and_from (same_type k FunctionExpression && i == 2) (is_derived_constructor up) (and_from (same_type k FunctionExpression) (i == 2) both.1 parts.1) (in-constructor s up both.0 so)
      in-body false e = refl

      as-constructor : (b : Bool) → (is_member s && same_type k MethodDefinition && i == 1 && bytes_eq (first_text l.texts) (codes "constructor")) ≡ b →
          stands_so (if b then Constructor else if is_constructor s && same_type k FunctionExpression && i == 2 then Body else Elsewhere) above ≡ true
      as-constructor true e =
          let called : Bool = bytes_eq (first_text l.texts) (codes "constructor") in
          let parts = and_parts (is_member s && same_type k MethodDefinition && i == 1) called e in
          let most = and_parts (is_member s && same_type k MethodDefinition) (i == 1) parts.0 in
          let both = and_parts (is_member s) (same_type k MethodDefinition) most.0 in
          in-class s up (ancestor k l (outline (opened_fields (may_be_body k) fs)) i 0) both.0 so
          (and_from (same_type k MethodDefinition && i == 1) called (and_from (same_type k MethodDefinition) (i == 1) both.1 most.1) parts.1)
      as-constructor false e = in-body (is_constructor s && same_type k FunctionExpression && i == 2) refl

      as-member : (b : Bool) → (is_class k && i == 2 && extends fs) ≡ b →
          stands_so
          (if b then Member else if is_member s && same_type k MethodDefinition && i == 1 && bytes_eq (first_text l.texts) (codes "constructor") then Constructor else if is_constructor s && same_type k FunctionExpression && i == 2 then Body else Elsewhere)
          above ≡ true
      as-member true e =
          let parts = and_parts (is_class k && i == 2) (extends fs) e in
          and_from (is_class k) (is_some (child_at 1 (outline (opened_fields (may_be_body k) fs)))) (and_parts (is_class k) (i == 2) parts.0).0 (child-outlined 1 (may_be_body k) fs parts.1)
      as-member false e = as-constructor (is_member s && same_type k MethodDefinition && i == 1 && bytes_eq (first_text l.texts) (codes "constructor")) refl
