-- The names that a pattern declares are those of its identifiers: what stands in its default values and keys declares nothing.
use Rattle.std.proofs.Common.{◌≡◌, ℕ, zero, suc, refl, ap, subst, sym, List, [], ◌∷◌, ◌++◌}
use Rattle.std.specs.Prelude.{Bool, true, false, ◌||◌, ◌&&◌, Some, None, bytes_eq, is_some, if◌then◌else◌}
use Rattle.std.specs.List.{list_all, list_any}
use Rattle.std.proofs.lemmas.Bool.{and_parts, or_parts}
use Rattle.es_tree.specs.Attributes.{child_entries}
use Rattle.es_tree.specs.BoundNames.{bound_identifiers, bound_in_field, bound_in_fields, bound_in_trees}
use Rattle.es_tree.specs.HasForm.{element_form, elements_form, field_form, fields_form, has_form, is_computed, sort_before_fields, sort_before_trees, trees_form}
use Rattle.es_tree.specs.Names.{first_text, is_name_place}
use Rattle.es_tree.specs.Table.{kinds_of}
use Rattle.es_tree.specs.Tree.{Tree, node, Label, Fields, done, ◌then◌, Field, missing, one, many, statements, Trees, empty, ◌before◌, label_of}
use Rattle.es_tree.specs.Words.{Text}
use Rattle.es_tree.specs.declared.ast_type.AstType.{AstType}
use Rattle.es_tree.specs.declared.ast_type.AstType.TheVariants.{ArrayPattern, AssignmentPattern, Identifier, ObjectPattern, PatternProperty, RestElement, VariableDeclarator}
use Rattle.es_tree.specs.declared.table.Content.TheVariants.{Child as c-Child}
use Rattle.es_tree.specs.declared.table.FieldName.TheVariants.{Argument as f-Argument, Key as f-Key, Left as f-Left, Properties as f-Properties, Right as f-Right, Value as f-Value}
use Rattle.es_tree.specs.declared.table.Often.TheVariants.{Optional, Required}
use Rattle.es_tree.specs.declared.table.Sort.{Sort}
use Rattle.es_tree.specs.declared.table.Sort.TheVariants.{Binding as s-Binding, Expression as s-Expression, Pattern as s-Pattern, PatternMember as s-PatternMember, PatternMemberRest as s-PatternMemberRest, PatternRest as s-PatternRest, PropertyKey as s-PropertyKey, VariableDeclarator as s-VariableDeclarator}
use Rattle.es_tree.proofs.CoreBreaks.{among_kinds}
use Rattle.es_tree.proofs.NodeForm.{node_form}
use Rattle.es_semantic.specs.RolesOf.{reads, role_at}
use Rattle.es_semantic.specs.declared.place.Binding.{Binding}
use Rattle.es_semantic.specs.declared.place.Role.{Role}
use Rattle.es_semantic.specs.declared.place.Role.TheVariants.{Binds, Nothing}
use Rattle.es_resolution.specs.Declarations.{Bound, declared, declared_among, declared_by, declared_in, is_asked, reaches_out, symbol_of}
use Rattle.es_resolution.specs.Resolved.{bound_by}
use Rattle.es_resolution.proofs.Declares.{bound-both}
use Rattle.es_changes.proofs.Expressions.{declares-none}
use Rattle.es_pattern_moves.specs.PatternMoves.{declarator_declares}
use Rattle.es_pattern_moves.proofs.FieldShapes.{AreTwo, IsMaybe, IsNode, list-shape, node-shape, optional, pair-shape, required, two-fields}
use Rattle.es_pattern_moves.proofs.FieldShapes.AreTwo.{are_two}
use Rattle.es_pattern_moves.proofs.FieldShapes.IsMaybe.{not_there, is_there}
use Rattle.es_pattern_moves.proofs.FieldShapes.IsNode.{is_node}
use Rattle.es_rest_rows.specs.RestRows.{binds_name}
use Rattle.es_semantic.proofs.DeclaredRoles.{is_pattern}
use Rattle.es_rest_shapes.specs.RestShapes.{any_tree}

-- LISTS that don't bind a name

module _ (y : Text) where
  pub both-out : (bs cs : List Bound) → bound_by bs y ≡ false → bound_by cs y ≡ false → bound_by (bs ++ cs) y ≡ false
  both-out bs cs e d = bound-both bs cs y false false e d

  pub if-out : (c : Bool) (bs : List Bound) → (c ≡ true → bound_by bs y ≡ false) → bound_by (if c then bs else []) y ≡ false
  if-out true bs e = e refl
  if-out false bs e = refl

  pub none-out : (bs : List Bound) → bs ≡ [] → bound_by bs y ≡ false
  none-out bs e = ap (λ (cs : List Bound). bound_by cs y) e

  own-out : (c : Bool) (b : Bound) → bytes_eq b.name y ≡ false → bound_by ((if c then b ∷ [] else []) ++ []) y ≡ false
  own-out true b e = ap (λ q. is_some (if q then Some b.symbol else None)) e
  own-out false b e = refl

-- PATTERNS

-- a sort of patterns and what stands in them
abbrev holds_patterns : Sort → Bool
holds_patterns s = list_all is_pattern (kinds_of s)

asked-place : (v b : Bool) → is_asked v (if b then reads else Nothing) ≡ false
asked-place v true = refl
asked-place v false = refl

key-none : (v : Bool) (r : Role) (c : Bool) (t : Tree) → is_asked v r ≡ false → has_form (if c then s-Expression else s-PropertyKey) t ≡ true → declared v r t ≡ []
key-none v r true t o h = declares-none v r s-Expression t o refl h
key-none v r false t o h = declares-none v r s-PropertyKey t o refl h

before-trees : (s last : Sort) (ts : Trees) → holds_patterns s ≡ true → holds_patterns last ≡ true → holds_patterns (sort_before_trees s last ts) ≡ true
before-trees s last empty e d = d
before-trees s last (t before ts) e d = e

before-fields : (s last : Sort) (fs : Fields) → holds_patterns s ≡ true → holds_patterns last ≡ true → holds_patterns (sort_before_fields s last fs) ≡ true
before-fields s last done e d = d
before-fields s last (f then fs) e d = e

module _ (v : Bool) (b : Binding) (y : Text) where
  abbrev Out : List Bound → Type 0
  Out bs = bound_by bs y ≡ false

  abbrev has_it : Tree → Bool
  has_it t = bytes_eq (first_text (label_of t).texts) y

  any-parts : (ts us : List Tree) → list_any has_it (ts ++ us) ≡ false → (list_any has_it ts ≡ false) × (list_any has_it us ≡ false)
  any-parts [] us e = (refl, e)
  any-parts (t ∷ ts) us e =
      let d = or_parts (has_it t) (list_any has_it (ts ++ us)) e in
      let h = any-parts ts us d.1 in
      ((λ i. d.0 i || h.0 i), h.1)

  abbrev here : AstType → ℕ → Bool
  here k i = reaches_out v k i

  mutual
    pub tree-out : (s : Sort) (t : Tree) → holds_patterns s ≡ true → has_form s t ≡ true → binds_name y t ≡ false → Out (declared v (Binds b) t)
    tree-out s (node Identifier l done) e h d = own-out y (is_asked v (Binds b)) (record { name = first_text l.texts; symbol = symbol_of l }) (or_parts (bytes_eq (first_text l.texts) y) false d).0
    tree-out s (node Identifier l (f then fs)) e h d = absurd (let no : false ≡ true = (node_form s Identifier l (f then fs) h).children in cc)
    tree-out s (node ObjectPattern l fs) e h d = object-out l fs (node_form s ObjectPattern l fs h).children d
    tree-out s (node PatternProperty l fs) e h d = property-out l fs (node_form s PatternProperty l fs h).children d
    tree-out s (node ArrayPattern l fs) e h d = elements-out (here ArrayPattern) (role_at (Binds b) ArrayPattern l fs) s-Pattern s-PatternRest fs (λ i. refl) refl refl (node_form s ArrayPattern l fs h).children d
    tree-out s (node AssignmentPattern l fs) e h d = default-out l fs (node_form s AssignmentPattern l fs h).children d
    tree-out s (node RestElement l fs) e h d = rest-out l fs (node_form s RestElement l fs h).children d
    tree-out s (node k l fs) e h d = absurd (let no : false ≡ true = among_kinds is_pattern k (kinds_of s) (node_form s k l fs h).sort e in cc)

    object-out : (l : Label) (fs : Fields) → fields_form ObjectPattern l (child_entries ObjectPattern) fs ≡ true → binds_name y (node ObjectPattern l fs) ≡ false → Out (declared v (Binds b) (node ObjectPattern l fs))
    object-out l (many ts then done) h d = both-out y (if here ObjectPattern zero then declared_among v (Binds b) ts else []) [] (if-out y (here ObjectPattern zero) (declared_among v (Binds b) ts) (λ c. all-out s-PatternMember s-PatternMemberRest ts refl refl (and_parts (trees_form s-PatternMember s-PatternMemberRest ts) true h).0 d)) refl
    object-out l fs h d = absurd (let no : false ≡ true = list-shape ObjectPattern l f-Properties s-PatternMember fs h in cc)

    property-out : (l : Label) (fs : Fields) → fields_form PatternProperty l (child_entries PatternProperty) fs ≡ true → binds_name y (node PatternProperty l fs) ≡ false → Out (declared v (Binds b) (node PatternProperty l fs))
    property-out l (one k then one t then done) h d =
        let first = and_parts (has_form (if is_computed PatternProperty l then s-Expression else s-PropertyKey) k) (has_form s-Pattern t && true) h in
        let second = and_parts (has_form s-Pattern t) true first.1 in
        let r : Role = if is_name_place PatternProperty l zero then reads else Nothing in
        both-out y (if here PatternProperty zero then declared v r k else []) ((if here PatternProperty (suc zero) then declared v (Binds b) t else []) ++ [])
        (if-out y (here PatternProperty zero) (declared v r k) (λ c. none-out y (declared v r k) (key-none v r (is_computed PatternProperty l) k (asked-place v (is_name_place PatternProperty l zero)) first.0)))
        (both-out y (if here PatternProperty (suc zero) then declared v (Binds b) t else []) [] (if-out y (here PatternProperty (suc zero)) (declared v (Binds b) t) (λ c. tree-out s-Pattern t refl second.0 d)) refl)
    property-out l fs h d = absurd (let no : false ≡ true = pair-shape PatternProperty l f-Key f-Value s-PropertyKey s-Pattern fs h in cc)

    default-out : (l : Label) (fs : Fields) → fields_form AssignmentPattern l (child_entries AssignmentPattern) fs ≡ true → binds_name y (node AssignmentPattern l fs) ≡ false → Out (declared v (Binds b) (node AssignmentPattern l fs))
    default-out l (one t then one e then done) h d =
        let first = and_parts (has_form s-Pattern t) (has_form s-Expression e && true) h in
        let second = and_parts (has_form s-Expression e) true first.1 in
        both-out y (if here AssignmentPattern zero then declared v (Binds b) t else []) ((if here AssignmentPattern (suc zero) then declared v reads e else []) ++ [])
        (if-out y (here AssignmentPattern zero) (declared v (Binds b) t) (λ c. tree-out s-Pattern t refl first.0 d))
        (both-out y (if here AssignmentPattern (suc zero) then declared v reads e else []) [] (if-out y (here AssignmentPattern (suc zero)) (declared v reads e) (λ c. none-out y (declared v reads e) (declares-none v reads s-Expression e refl refl second.0))) refl)
    default-out l fs h d = absurd (let no : false ≡ true = pair-shape AssignmentPattern l f-Left f-Right s-Pattern s-Expression fs h in cc)

    rest-out : (l : Label) (fs : Fields) → fields_form RestElement l (child_entries RestElement) fs ≡ true → binds_name y (node RestElement l fs) ≡ false → Out (declared v (Binds b) (node RestElement l fs))
    rest-out l (one t then done) h d = both-out y (if here RestElement zero then declared v (Binds b) t else []) [] (if-out y (here RestElement zero) (declared v (Binds b) t) (λ c. tree-out s-Pattern t refl (and_parts (has_form s-Pattern t) true h).0 d)) refl
    rest-out l fs h d = absurd (let no : false ≡ true = node-shape RestElement l f-Argument s-Pattern fs h in cc)

    all-out : (s last : Sort) (ts : Trees) → holds_patterns s ≡ true → holds_patterns last ≡ true → trees_form s last ts ≡ true → list_any has_it (bound_in_trees ts) ≡ false → Out (declared_among v (Binds b) ts)
    all-out s last empty e e' h d = refl
    all-out s last (t before ts) e e' h d =
        let f = and_parts (has_form (sort_before_trees s last ts) t) (trees_form s last ts) h in
        let g = any-parts (bound_identifiers t) (bound_in_trees ts) d in
        both-out y (declared v (Binds b) t) (declared_among v (Binds b) ts) (tree-out (sort_before_trees s last ts) t (before-trees s last ts e e') f.0 g.0) (all-out s last ts e e' f.1 g.1)

    elements-out : (counts : ℕ → Bool) (roles : ℕ → Role) (s last : Sort) (fs : Fields) → ((i : ℕ) → roles i ≡ Binds b) → holds_patterns s ≡ true → holds_patterns last ≡ true → elements_form s last fs ≡ true → list_any has_it (bound_in_fields fs) ≡ false → Out (declared_in v counts roles fs)
    elements-out counts roles s last done same e e' h d = refl
    elements-out counts roles s last (f then fs) same e e' h d =
        let p = and_parts (element_form (sort_before_fields s last fs) f) (elements_form s last fs) h in
        let g = any-parts (bound_in_field f) (bound_in_fields fs) d in
        both-out y (if counts zero then declared_by v (roles zero) f else []) (declared_in v (λ i. counts (suc i)) (λ i. roles (suc i)) fs)
        (if-out y (counts zero) (declared_by v (roles zero) f) (λ c. element-out (roles zero) (sort_before_fields s last fs) f (same zero) (before-fields s last fs e e') p.0 g.0))
        (elements-out (λ i. counts (suc i)) (λ i. roles (suc i)) s last fs (λ i. same (suc i)) e e' p.1 g.1)

    element-out : (r : Role) (s : Sort) (f : Field) → r ≡ Binds b → holds_patterns s ≡ true → element_form s f ≡ true → list_any has_it (bound_in_field f) ≡ false → Out (declared_by v r f)
    element-out r s missing same e h d = refl
    element-out r s (one t) same e h d = subst (λ (q : Role). Out (declared v q t)) (sym same) (tree-out s t e h d)
    element-out r s (many ts) same e h d = absurd (cc h)
    element-out r s (statements ts) same e h d = absurd (cc h)

  -- where it isn't asked for it declares nothing
  pub binding-out : (p : Tree) → has_form s-Binding p ≡ true → (is_asked v (Binds b) && binds_name y p) ≡ false → Out (declared v (Binds b) p)
  binding-out p h d = at (is_asked v (Binds b)) refl d
    where
      at : (c : Bool) → is_asked v (Binds b) ≡ c → (c && binds_name y p) ≡ false → Out (declared v (Binds b) p)
      at true e d = tree-out s-Binding p refl h d
      at false e d = none-out y (declared v (Binds b) p) (declares-none v (Binds b) s-Binding p e refl h)

  -- DECLARATORS

  declarator-out : (t : Tree) → has_form s-VariableDeclarator t ≡ true → (is_asked v (Binds b) && declarator_declares y t) ≡ false → Out (declared v (Binds b) t)
  declarator-out (node VariableDeclarator l fs) h d = outer fs (two-fields VariableDeclarator l _ _ fs (node_form s-VariableDeclarator VariableDeclarator l fs h).children) d
    where
      maybe-out : (g : Field) → IsMaybe s-Expression g → Out (declared_by v reads g)
      maybe-out g not_there = refl
      maybe-out g (is_there e h) = none-out y (declared v reads e) (declares-none v reads s-Expression e refl refl h)

      inner : (f g : Field) → IsNode s-Binding f → IsMaybe s-Expression g → (is_asked v (Binds b) && declarator_declares y (node VariableDeclarator l (f then g then done))) ≡ false → Out (declared v (Binds b) (node VariableDeclarator l (f then g then done)))
      inner f g (is_node p h) m d =
          both-out y (if here VariableDeclarator zero then declared v (Binds b) p else []) ((if here VariableDeclarator (suc zero) then declared_by v reads g else []) ++ [])
          (if-out y (here VariableDeclarator zero) (declared v (Binds b) p) (λ c. binding-out p h d))
          (both-out y (if here VariableDeclarator (suc zero) then declared_by v reads g else []) [] (if-out y (here VariableDeclarator (suc zero)) (declared_by v reads g) (λ c. maybe-out g m)) refl)

      outer : (fs : Fields) → AreTwo (field_form VariableDeclarator l (c-Child s-Binding Required)) (field_form VariableDeclarator l (c-Child s-Expression Optional)) fs → (is_asked v (Binds b) && declarator_declares y (node VariableDeclarator l fs)) ≡ false → Out (declared v (Binds b) (node VariableDeclarator l fs))
      outer fs (are_two f g h h') d = inner f g (required VariableDeclarator l s-Binding f h) (optional VariableDeclarator l s-Expression g h') d
  declarator-out (node k l fs) h d = absurd (let no : false ≡ true = (node_form s-VariableDeclarator k l fs h).sort in cc)

  before-same : (s : Sort) (ts : Trees) → sort_before_trees s s ts ≡ s
  before-same s empty = refl
  before-same s (t before ts) = refl

  and-or-parts : (c p q : Bool) → (c && (p || q)) ≡ false → ((c && p) ≡ false) × ((c && q) ≡ false)
  and-or-parts true p q e = or_parts p q e
  and-or-parts false p q e = (refl, refl)

  pub declarators-out : (ts : Trees) → trees_form s-VariableDeclarator s-VariableDeclarator ts ≡ true → (is_asked v (Binds b) && any_tree (declarator_declares y) ts) ≡ false → Out (declared_among v (Binds b) ts)
  declarators-out empty h d = refl
  declarators-out (t before ts) h d =
      let f = and_parts (has_form (sort_before_trees s-VariableDeclarator s-VariableDeclarator ts) t) (trees_form s-VariableDeclarator s-VariableDeclarator ts) h in
      let g = and-or-parts (is_asked v (Binds b)) (declarator_declares y t) (any_tree (declarator_declares y) ts) d in
      both-out y (declared v (Binds b) t) (declared_among v (Binds b) ts) (declarator-out t (subst (λ (s : Sort). has_form s t ≡ true) (before-same s-VariableDeclarator ts) f.0) g.0) (declarators-out ts f.1 g.1)
