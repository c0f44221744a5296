-- A name for `this` that is set behind `super(..)`: form is kept.
use Rattle.std.proofs.Common.{◌≡◌, ◌==◌, length, refl, subst, ◌∙◌, List, [], ◌∷◌}
use Rattle.std.specs.Prelude.{Bool, true, false, not, ◌&&◌, Option, Some, None}
use Rattle.std.proofs.lemmas.Bool.{and_from, and_parts}
use Rattle.es_tree.specs.Attributes.{text_entries, texts_fit}
use Rattle.es_tree.specs.HasForm.{has_form}
use Rattle.es_tree.specs.Names.{first_text}
use Rattle.es_tree.specs.Tree.{Tree, node, Label, Field, Fields, done, ◌then◌, missing, one, Trees, ◌before◌}
use Rattle.es_tree.specs.Words.{Text}
use Rattle.es_tree.specs.declared.ast_type.AstType.TheVariants.{FunctionBody, Identifier, ThisExpression, VariableDeclaration, VariableDeclarator}
use Rattle.es_tree.specs.declared.table.Sort.{Sort}
use Rattle.es_tree.specs.declared.table.Sort.TheVariants.{Binding as s-Binding, Expression as s-Expression, Statement as s-Statement, VariableDeclarator as s-VariableDeclarator}
use Rattle.es_tree.proofs.NodeForm.{has_form-node, node_form}
use Rattle.es_resolution.specs.Declarations.{Bound}
use Rattle.es_steps.specs.Nodes.{identifier}
use Rattle.es_steps.specs.Open.{Additions, Pending}
use Rattle.es_steps.specs.Slots.{is_slot}
use Rattle.es_steps.specs.Steps.{Ledger, Site, Whole, ledger}
use Rattle.es_steps.specs.Steps.Spot.{at_node}
use Rattle.es_steps.proofs.FormMembers.{formed-first}
use Rattle.es_steps.proofs.FormParts.{IsText}
use Rattle.es_steps.proofs.FormRules.{FormLawful, NodeFormed, nodes-only, nothing-new}
use Rattle.es_set_this.specs.ConstructorThis.{without_value}
use Rattle.es_constructor_this.specs.SetRows.{DeclaresThis, Puts, SetRow, Settles, body_with, inside_body}
use Rattle.es_constructor_this.specs.SetRows.DeclaresThis.{declares_this}
use Rattle.es_constructor_this.specs.SetRows.SetRow.{sets, settles}
use Rattle.es_constructor_this.proofs.Moved.{Moved, Star, settled-star, starred}
use Rattle.es_constructor_this.proofs.MovedForms.{first-formed, moved-formed, not-asked, puts-formed, statement-formed}
use Rattle.es_constructor_this.proofs.SetShapes.{bare, body_list, set-only, the_name, valued}

-- THE DECLARATION

not-empty : (ts : List (Option Text)) → texts_fit (text_entries Identifier) ts ≡ true → (length (first_text ts) == 0) ≡ false
not-empty [] h = absurd (cc h)
not-empty (None ∷ ts) h = absurd (cc h)
not-empty (Some x ∷ ts) h = at (length x == 0) h
  where
    at : (b : Bool) → (not b && texts_fit [] ts) ≡ true → b ≡ false
    at true h = absurd (cc h)
    at false h = refl

module _ (m k i h : Label) (f : has_form s-Statement (node VariableDeclaration m (valued k i h)) ≡ true) where
  abbrev declarator : Fields
  declarator = one (the_name i) then (one (node ThisExpression h done) then done)

  declarator-formed : has_form s-VariableDeclarator (node VariableDeclarator k declarator) ≡ true
  declarator-formed = (and_parts (has_form s-VariableDeclarator (node VariableDeclarator k declarator)) true (and_parts _ true (node_form s-Statement VariableDeclaration m (valued k i h) f).children).0).0

  name-formed : has_form s-Binding (the_name i) ≡ true
  name-formed = (and_parts (has_form s-Binding (the_name i)) _ (node_form s-VariableDeclarator VariableDeclarator k declarator declarator-formed).children).0

  bare-formed : has_form s-Statement (node VariableDeclaration m (bare k i)) ≡ true
  bare-formed =
      let d = node_form s-Statement VariableDeclaration m (valued k i h) f in
      let n = node_form s-VariableDeclarator VariableDeclarator k declarator declarator-formed in
      let new = has_form-node s-VariableDeclarator VariableDeclarator k (one (the_name i) then (missing then done)) (record { sort = n.sort; texts = n.texts; flags = n.flags; start = n.start; stop = n.stop; agree = refl; children = and_from _ true name-formed refl }) in
      has_form-node s-Statement VariableDeclaration m (bare k i) (record { sort = d.sort; texts = d.texts; flags = d.flags; start = d.start; stop = d.stop; agree = refl; children = and_from _ true (and_from _ true new refl) refl })

text-declared : (b : Bound) (d : Tree) → DeclaresThis b d → has_form s-Statement d ≡ true → IsText b
text-declared b _ (declares_this m k i h var e) f = (λ j. length (e j).name == 0) ∙ not-empty i.texts (node_form s-Binding Identifier i done (name-formed m k i h f)).texts

left-formed : (b : Bound) (d : Tree) → DeclaresThis b d → has_form s-Statement d ≡ true → has_form s-Statement (without_value d) ≡ true
left-formed b _ (declares_this m k i h var e) f = bare-formed m k i h f

-- what is known of the one name beside
pub one-known : (B : Bound → Type 0) (b : Bound) → B b → (c : Bound) → Some b ≡ Some c → B c
one-known B b h c e = subst (λ (o : Option Bound). At o) e h
  where
    At : Option Bound → Type 0
    At (Some c) = B c
    At None = ⊥

-- THE BODY

module _ (s : Sort) (l : Label) (ds : Field) (d : Tree) (ts : Trees) (f : has_form s (body_with l ds (d before ts)) ≡ true) where
  declaration-formed : has_form s-Statement d ≡ true
  declaration-formed = (first-formed d ts (and_parts _ true (and_parts _ _ (node_form s FunctionBody l (body_list ds d ts) f).children).1).0).0

  -- its statements settled, one place after the other
  pub body-known : (n : Site) (w : Whole) (q : Pending) (x : Additions) (b : Bound) (us : Trees) → DeclaresThis b d → Settles (inside_body n l ds (d before ts)) (ledger w q (Some b) x) ts us → Star (Moved IsText false) (body_with l ds (d before ts)) (body_with l ds (d before us))
  body-known n w q x b us first h = settled-star l ds d IsText ts us h (one-known IsText b (text-declared b d first declaration-formed))

  pub still-formed : (x y : Tree) → Moved IsText false x y → has_form s x ≡ true → has_form s y ≡ true
  still-formed x y m g = moved-formed x y m s (not-asked FunctionBody l (body_list ds d ts) s refl f) g

  listed-formed : (b : Bound) (us : Trees) → DeclaresThis b d → Puts (identifier b) ts us → has_form s (body_with l ds (without_value d before us)) ≡ true
  listed-formed b us first p =
      let n = node_form s FunctionBody l (body_list ds d ts) f in
      let parts = and_parts _ _ n.children in
      let list = first-formed d ts (and_parts _ true parts.1).0 in
      let new = formed-first s-Statement (without_value d) us (left-formed b d first list.0) (puts-formed p (statement-formed b (text-declared b d first list.0)) list.1) in
      has_form-node s FunctionBody l (body_list ds (without_value d) us) (record { sort = n.sort; texts = n.texts; flags = n.flags; start = n.start; stop = n.stop; agree = refl; children = and_from _ _ parts.0 (and_from _ true new refl) })

pub set-form : FormLawful SetRow
set-form = nodes-only SetRow set-only nodes
  where
    nodes : (n : Site) (s s' : Ledger) (t u : Tree) (a : Sort) → (is_slot n.above ≡ true → a ≡ s-Expression) → SetRow n s (at_node t) s' (at_node u) → has_form a t ≡ true → NodeFormed a s s' u
    nodes n s s' t u a slot (settles {w = w} {q = q} {a = x} b l ds d ts us here first h) f = record {
      formed = starred (λ (x : Tree). has_form a x ≡ true) (still-formed a l ds d ts f) (body_with l ds (d before ts)) (body_with l ds (d before us)) (body-known a l ds d ts f n w q x b us first h) f;
      names = nothing-new s s' refl;
    }
    nodes n s s' t u a slot (sets b l ds d ts us here apart first p) f = record { formed = listed-formed a l ds d ts f b us first p; names = nothing-new s s' refl }
