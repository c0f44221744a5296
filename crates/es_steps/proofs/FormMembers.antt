-- The form of members and calls, and of their parts.
use Rattle.std.proofs.Common.{◌≡◌, length, refl, sym, ap, ◌∙◌, List, [], ◌∷◌}
use Rattle.std.specs.Prelude.{Bool, true, ◌&&◌, Option, if◌then◌else◌}
use Rattle.es_tree.specs.Attributes.{flag_entries}
use Rattle.es_tree.specs.HasForm.{has_form, flag_of, sort_at, sort_before_trees, trees_form}
use Rattle.es_tree.specs.Tree.{Tree, node, Label, done, ◌then◌, one, many, Trees, empty, ◌before◌}
use Rattle.es_tree.specs.Words.{Text}
use Rattle.es_tree.specs.declared.ast_type.AstType.TheVariants.{CallExpression, MemberExpression}
use Rattle.es_tree.specs.declared.table.FieldName.TheVariants.{Computed as f-Computed}
use Rattle.es_tree.specs.declared.table.Sort.{Sort}
use Rattle.es_tree.specs.declared.table.Sort.TheVariants.{Argument as s-Argument, Expression as s-Expression, MemberProperty as s-MemberProperty}
use Rattle.es_tree.proofs.NodeForm.{node_form, has_form-node}
use Rattle.es_steps.proofs.FormParts.{IsFormed, HasSpan, and-left, and-right}

-- the sort of a property
abbrev pub property_sort : Bool → Sort
property_sort computed = if computed then s-Expression else s-MemberProperty

-- what a member is made of
pub record MemberForm (l : Label) (computed : Bool) (o p : Tree) : Type 0 where
  pub texts : l.texts ≡ []
  pub span : HasSpan l
  pub object : IsFormed o
  pub property : has_form (property_sort computed) p ≡ true

no-texts : (ts : List (Option Text)) → Rattle.es_tree.specs.Attributes.texts_fit [] ts ≡ true → ts ≡ []
no-texts [] e = refl
no-texts (t ∷ ts) e = absurd (cc e)

pub member-form : (l : Label) (computed optional : Bool) (o p : Tree) → l.flags ≡ computed ∷ optional ∷ [] → IsFormed (node MemberExpression l (one o then one p then done)) → MemberForm l computed o p
member-form l computed optional o p e h =
    let n = node_form s-Expression MemberExpression l (one o then one p then done) h in
    let property = and-left (has_form (sort_at MemberExpression l s-MemberProperty) p) true (and-right (has_form s-Expression o) (has_form (sort_at MemberExpression l s-MemberProperty) p && true) n.children) in
    record {
      texts = no-texts l.texts n.texts;
      span = record { start = n.start; stop = n.stop };
      object = and-left (has_form s-Expression o) (has_form (sort_at MemberExpression l s-MemberProperty) p && true) n.children;
      property = sym (ap (λ fs. has_form (if flag_of f-Computed (flag_entries MemberExpression) fs then s-Expression else s-MemberProperty) p) e) ∙ property;
    }

pub formed-member : (m : Label) (computed optional : Bool) (o p : Tree) → m.texts ≡ [] → m.flags ≡ computed ∷ optional ∷ [] → HasSpan m → IsFormed o → has_form (property_sort computed) p ≡ true → IsFormed (node MemberExpression m (one o then one p then done))
formed-member m computed optional o p t e s ho hp =
    has_form-node s-Expression MemberExpression m (one o then one p then done) (record {
      sort = refl;
      texts = rw t refl;
      flags = ap length e;
      start = s.start;
      stop = s.stop;
      agree = refl;
      children = rw (ho, ap (λ fs. has_form (if flag_of f-Computed (flag_entries MemberExpression) fs then s-Expression else s-MemberProperty) p) e ∙ hp) refl;
    })

-- calls
pub record CallForm (l : Label) (f : Tree) (arguments : Trees) : Type 0 where
  pub texts : l.texts ≡ []
  pub span : HasSpan l
  pub callee : IsFormed f
  pub arguments_form : trees_form s-Argument s-Argument arguments ≡ true

pub call-form : (l : Label) (f : Tree) (arguments : Trees) → IsFormed (node CallExpression l (one f then many arguments then done)) → CallForm l f arguments
call-form l f arguments h =
    let n = node_form s-Expression CallExpression l (one f then many arguments then done) h in
    record {
      texts = no-texts l.texts n.texts;
      span = record { start = n.start; stop = n.stop };
      callee = and-left (has_form s-Expression f) (trees_form s-Argument s-Argument arguments && true) n.children;
      arguments_form = and-left (trees_form s-Argument s-Argument arguments) true (and-right (has_form s-Expression f) (trees_form s-Argument s-Argument arguments && true) n.children);
    }

pub formed-call : (m : Label) (optional : Bool) (f : Tree) (arguments : Trees) → m.texts ≡ [] → m.flags ≡ optional ∷ [] → HasSpan m → IsFormed f → trees_form s-Argument s-Argument arguments ≡ true → IsFormed (node CallExpression m (one f then many arguments then done))
formed-call m optional f arguments t e s hf ha =
    has_form-node s-Expression CallExpression m (one f then many arguments then done) (record { sort = refl; texts = rw t refl; flags = ap length e; start = s.start; stop = s.stop; agree = refl; children = rw (hf, ha) refl })

-- the sort of a list whose last node is of the sort of the others
pub one-sort : (s : Sort) (ts : Trees) → sort_before_trees s s ts ≡ s
one-sort s empty = refl
one-sort s (t before ts) = refl

pub formed-first : (s : Sort) (t : Tree) (ts : Trees) → has_form s t ≡ true → trees_form s s ts ≡ true → trees_form s s (t before ts) ≡ true
formed-first s t ts h k = rw (one-sort s ts, h, k) refl
