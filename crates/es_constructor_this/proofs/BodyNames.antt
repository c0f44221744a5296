-- A node that stands as the body of such a constructor is the body of a function expression: so what is known of each function expression's body is known
-- of it.
use Rattle.std.proofs.Common.{◌≡◌, ℕ, zero, suc, refl, subst, sym, []}
use Rattle.std.specs.Prelude.{Bool, true, false, ◌&&◌, ◌==◌, bytes_eq, codes, if◌then◌else◌}
use Rattle.std.proofs.lemmas.Bool.{and_parts, eqb-true}
use Rattle.es_tree.specs.Ancestors.{is_class}
use Rattle.es_tree.specs.Attributes.{child_entries}
use Rattle.es_tree.specs.HasForm.{field_form, fields_form, has_form, same_type}
use Rattle.es_tree.specs.Names.{first_text}
use Rattle.es_tree.specs.Tree.{Tree, node, Label, Fields, done, ◌then◌, Field, missing, one, many, statements}
use Rattle.es_tree.specs.declared.ast_type.AstType.{AstType}
use Rattle.es_tree.specs.declared.ast_type.AstType.TheVariants.{FunctionBody, FunctionExpression, MethodDefinition}
use Rattle.es_tree.specs.declared.table.Content.TheVariants.{Child as c-Child}
use Rattle.es_tree.specs.declared.table.Often.TheVariants.{ListWithRest, Optional, Required}
use Rattle.es_tree.specs.declared.table.Sort.{Sort}
use Rattle.es_tree.specs.declared.table.Sort.TheVariants.{FunctionBody as s-FunctionBody, Identifier as s-Identifier, Pattern as s-Pattern}
use Rattle.es_tree.proofs.NodeForm.{NodeForm, node_form}
use Rattle.es_semantic.specs.RolesOf.{extends}
use Rattle.es_super_calls.specs.Constructors.{is_body, is_constructor, is_member, standing_in}
use Rattle.es_super_calls.specs.declared.standing.ClassStanding.{ClassStanding}
use Rattle.es_super_calls.specs.declared.standing.ClassStanding.TheVariants.{Body, Constructor, Elsewhere, Member}
use Rattle.es_constructor_this.specs.SetRows.{names_apart}
use Rattle.es_constructor_this.proofs.SetSources.{FunctionApart}

-- of a node that is a body, of what stands in a field, and of the field with this number: no list stands as a body
abbrev pub NodeApart : AstType → Fields → Type 0
NodeApart FunctionBody fs = names_apart fs ≡ true
NodeApart k fs = Unit {0}

abbrev pub TreeApart : Tree → Type 0
TreeApart (node k l fs) = NodeApart k fs

abbrev pub FieldApart : Field → Type 0
FieldApart missing = Unit {0}
FieldApart (one t) = TreeApart t
FieldApart f = ⊥

abbrev pub PartApart : ℕ → Fields → Type 0
PartApart j done = Unit {0}
PartApart zero (f then fs) = FieldApart f
PartApart (suc j) (f then fs) = PartApart j fs

-- where it stands as such a body
abbrev pub OwnApart : ClassStanding → Tree → Type 0
OwnApart s t = is_body s ≡ true → TreeApart t

-- THE THIRD FIELD of a function expression is its body

third-apart : (l : Label) (f p g : Field) (gs : Fields) → fields_form FunctionExpression l (child_entries FunctionExpression) (f then (p then (g then gs))) ≡ true → FunctionApart FunctionExpression l (f then (p then (g then gs))) → FieldApart g
third-apart l f p g gs form h =
    let parts = and_parts (field_form FunctionExpression l (c-Child s-Identifier Optional) f) _ form in
    at g gs (and_parts (field_form FunctionExpression l (c-Child s-Pattern ListWithRest) p) _ parts.1).1 h
  where
    at : (g : Field) (gs : Fields) → (field_form FunctionExpression l (c-Child s-FunctionBody Required) g && fields_form FunctionExpression l [] gs) ≡ true → FunctionApart FunctionExpression l (f then (p then (g then gs))) → FieldApart g
    at (one (node FunctionBody m bs)) done e h = h
    at (one (node FunctionBody m bs)) (d then ds) e h = absurd (let no : false ≡ true = (and_parts (has_form s-FunctionBody (node FunctionBody m bs)) false e).1 in cc no)
    at (one (node k m bs)) gs e h = tt
    at missing gs e h = tt
    at (many ts) gs e h = absurd (cc e)
    at (statements ts) gs e h = absurd (cc e)

body-apart : (s : Sort) (k : AstType) (l : Label) (fs : Fields) → NodeForm s k l fs → FunctionApart k l fs → same_type k FunctionExpression ≡ true → PartApart 2 fs
body-apart s FunctionExpression l (f then (p then (g then gs))) form h e = third-apart l f p g gs form.children h
body-apart s FunctionExpression l (f then (p then done)) form h e = tt
body-apart s FunctionExpression l (f then done) form h e = tt
body-apart s FunctionExpression l done form h e = tt
body-apart s k l fs form h e = absurd (cc e)

-- WHAT STANDS AS A BODY in a node

module _ (s : ClassStanding) (k : AstType) (l : Label) (fs : Fields) (h : same_type k FunctionExpression ≡ true → PartApart 2 fs) (i : ℕ) where
  as-body : (b : Bool) → (is_constructor s && same_type k FunctionExpression && i == 2) ≡ b → is_body (if b then Body else Elsewhere) ≡ true → PartApart i fs
  as-body true e own =
      let parts = and_parts (is_constructor s && same_type k FunctionExpression) (i == 2) e in
      subst (λ (j : ℕ). PartApart j fs) (sym (eqb-true i 2 parts.1)) (h (and_parts (is_constructor s) (same_type k FunctionExpression) parts.0).1)
  as-body false e own = absurd (cc own)

  as-constructor : (b : Bool) → is_body (if b then Constructor else if is_constructor s && same_type k FunctionExpression && i == 2 then Body else Elsewhere) ≡ true → PartApart i fs
  as-constructor true own = absurd (cc own)
  as-constructor false own = as-body (is_constructor s && same_type k FunctionExpression && i == 2) refl own

  as-member : (b : Bool) →
      is_body
      (if b then Member else if is_member s && same_type k MethodDefinition && i == 1 && bytes_eq (first_text l.texts) (codes "constructor") then Constructor else if is_constructor s && same_type k FunctionExpression && i == 2 then Body else Elsewhere)
      ≡ true → PartApart i fs
  as-member true own = absurd (cc own)
  as-member false own = as-constructor (is_member s && same_type k MethodDefinition && i == 1 && bytes_eq (first_text l.texts) (codes "constructor")) own

pub parts-apart : (d : Sort) (s : ClassStanding) (k : AstType) (l : Label) (fs : Fields) → has_form d (node k l fs) ≡ true → FunctionApart k l fs → (i : ℕ) → is_body (standing_in s k l fs i) ≡ true → PartApart i fs
parts-apart d s k l fs form h i own = as-member s k l fs (body-apart d k l fs (node_form d k l fs form) h) i (is_class k && i == 2 && extends fs) own
