-- A name for `this` that is set behind `super(..)`: the static rules of places are kept.
use Rattle.std.proofs.Common.{◌≡◌, refl, ap, List, ◌∷◌}
use Rattle.std.specs.Prelude.{true, false, Option, Some, [], bytes_eq, codes}
use Rattle.es_tree.specs.Ancestors.{Ancestor, ancestor}
use Rattle.es_tree.specs.HasForm.{has_form}
use Rattle.es_tree.specs.Names.{first_text}
use Rattle.es_tree.specs.Tree.{Tree, node, Label, Field, Fields, done, ◌then◌, missing, one, Trees, empty, ◌before◌}
use Rattle.es_tree.specs.Words.{Text}
use Rattle.es_tree.specs.declared.ast_type.AstType.TheVariants.{FunctionBody, Identifier, VariableDeclaration, VariableDeclarator}
use Rattle.es_tree.specs.declared.table.Sort.{Sort}
use Rattle.es_resolution.specs.Declarations.{Bound}
use Rattle.es_resolution.proofs.Basics.{bytes_eq-equal}
use Rattle.es_steps.specs.Nodes.{identifier}
use Rattle.es_steps.specs.Steps.{Ledger, Site}
use Rattle.es_steps.specs.Steps.Spot.{at_node}
use Rattle.es_valid_steps.specs.PlaceRules.{Keeps, KeepsHere}
use Rattle.es_valid_steps.proofs.Edges.{edges}
use Rattle.es_valid_steps.proofs.Free.{made-there}
use Rattle.es_valid_steps.proofs.Loose.{Loose, loose}
use Rattle.es_valid_rests.proofs.FacedNodes.{alike-faced, here-faced}
use Rattle.es_valid_rests.proofs.FacedSteps.{FaceLawful, NodeFaced}
use Rattle.es_valid_rests.proofs.RestPlaces.{declaration-here, declarator-loose, still_other}
use Rattle.es_set_this.specs.ConstructorThis.{is_var, without_value}
use Rattle.es_constructor_this.specs.SetRows.{DeclaresThis, Puts, SetRow, body_with}
use Rattle.es_constructor_this.specs.SetRows.DeclaresThis.{declares_this}
use Rattle.es_constructor_this.specs.SetRows.SetRow.{sets, settles}
use Rattle.es_constructor_this.proofs.Moved.{starred}
use Rattle.es_constructor_this.proofs.MovedPlaces.{moved-around, moved-keeps, puts-keep}
use Rattle.es_constructor_this.proofs.SetForms.{body-known, still-formed}
use Rattle.es_constructor_this.proofs.SetShapes.{bare, body_list, set-only, the_name}

-- THE WORD of the declaration

pub is-var : (ts : List (Option Text)) → is_var ts ≡ true → ts ≡ Some (codes "var") ∷ []
is-var (Some x ∷ []) e = λ j. Some (bytes_eq-equal x (codes "var") e j) ∷ []
is-var _ e = absurd (cc e)

no-using : (m : Label) → is_var m.texts ≡ true → bytes_eq (first_text m.texts) (codes "using") ≡ false
no-using m e = ap (λ ts. bytes_eq (first_text ts) (codes "using")) (is-var m.texts e)

-- THE DECLARATION in the list of a body

module _ (l : Label) (all : Fields) (up : List Ancestor) where
  abbrev in_list : List Ancestor
  in_list = ancestor FunctionBody l all 1 0 ∷ up

  list-loose : Loose in_list
  list-loose = loose l all 1 0 up FunctionBody refl

  module _ (m k i : Label) (var : is_var m.texts ≡ true) where
    abbrev in_declaration : List Ancestor
    in_declaration = ancestor VariableDeclaration m (bare k i) 0 0 ∷ in_list

    abbrev name_alone : Fields
    name_alone = one (the_name i) then (missing then done)

    declarator-keeps : KeepsHere in_declaration (node VariableDeclarator k name_alone)
    declarator-keeps = record {
      jump = refl;
      label = refl;
      returned = refl;
      super_word = refl;
      target = refl;
      chain = refl;
      mark = refl;
      deleted = refl;
      value = rw (is-var m.texts var) refl;
      using_word = refl;
      head = refl;
      item = refl;
      accessor = refl;
      rest = refl;
      declaration = refl;
      meta = refl;
    }

    bare-keeps : Keeps in_list (node VariableDeclaration m (bare k i))
    bare-keeps = (
      declaration-here in_list m (node VariableDeclarator k name_alone before empty) list-loose still_other (no-using m var),
      (((declarator-keeps, ((made-there (ancestor VariableDeclarator k name_alone 0 0 ∷ in_declaration) Identifier i done (declarator-loose k name_alone 0 in_declaration) refl refl refl refl, tt), (tt, tt))), tt), tt),
    )

  left-keeps : (b : Bound) (d : Tree) → DeclaresThis b d → Keeps in_list (without_value d)
  left-keeps b _ (declares_this m k i h var e) = bare-keeps m k i var

-- THE BODY

module _ (up : List Ancestor) (l : Label) (ds : Field) (d : Tree) (ts : Trees) (a : Sort) (f : has_form a (body_with l ds (d before ts)) ≡ true) (h : Keeps up (body_with l ds (d before ts))) where
  listed-keeps : (b : Bound) (us : Trees) → DeclaresThis b d → Puts (identifier b) ts us → Keeps up (body_with l ds (without_value d before us))
  listed-keeps b us first p =
      let old = body_list ds d ts in
      let new = body_list ds (without_value d) us in
      let puts = puts-keep (ancestor FunctionBody l old 1 0) up (list-loose l old up) refl b p h.1.1.0.1 in
      (here-faced up FunctionBody l old new (edges a FunctionBody l old f) refl h.0, moved-around up FunctionBody l old new (alike-faced FunctionBody l old new refl) (h.1.0, ((left-keeps l old up b d first, puts), tt)))

-- a body with its statements settled
record FormedKeeps (up : List Ancestor) (a : Sort) (t : Tree) : Type 0 where
  formed : has_form a t ≡ true
  keeps : Keeps up t

pub set-faced : FaceLawful SetRow
set-faced = record { at_nodes = set-only; leaves = leaves }
  where
    leaves : (n : Site) (s s' : Ledger) (t u : Tree) (a : Sort) (up : List Ancestor) → SetRow n s (at_node t) s' (at_node u) → has_form a t ≡ true → Keeps up t → NodeFaced up s s' t u
    leaves n s s' t u a up (settles {w = w} {q = q} {a = x} b l ds d ts us here first h) f k = record {
      keeps = (starred (λ (x : Tree). FormedKeeps up a x) (λ y z m g. record { formed = still-formed a l ds d ts f y z m g.formed; keeps = moved-keeps y z m a g.formed up g.keeps }) (body_with l ds (d before ts)) (body_with l ds (d before us)) (body-known a l ds d ts f n w q x b us first h) (record { formed = f; keeps = k })).keeps;
      seen = refl;
      beside = record { pending = refl; this = refl; top = refl };
    }
    leaves n s s' t u a up (sets b l ds d ts us here apart first p) f k = record {
      keeps = listed-keeps up l ds d ts a f k b us first p;
      seen = refl;
      beside = record { pending = refl; this = refl; top = refl };
    }
