-- In a program that has form and breaks no rule of places each assignment by an operator is to a name or a member (ECMA-262, 13.15.1): where
-- no construct is left that the lowerings take away, none of the built rows is left.
use Rattle.std.proofs.Common.{◌≡◌, ◌&&◌, ◌||◌, ℕ, suc, Bool, true, false, List, [], ◌∷◌, refl, sym, ap, subst, ◌∙◌, true≢false}
use Rattle.std.specs.Prelude.{Option, Some, None, bytes_eq, codes, is_some, not, if◌then◌else◌}
use Rattle.std.specs.List.{list_any}
use Rattle.std.proofs.lemmas.Bool.{and_parts}
use Rattle.es_tree.specs.Ancestors.{Ancestor, ancestor, place_of}
use Rattle.es_tree.specs.Attributes.{child_entries}
use Rattle.es_tree.specs.Constructs.{is_exponentiation, is_logical_assignment}
use Rattle.es_tree.specs.CoreStaticRules.{is_simple_target, is_stray_optional}
use Rattle.es_tree.specs.HasForm.{ElementsPlace, element_form, elements_form, elements_of, field_form, fields_form, has_form, match_option, same_type, sort_at, sort_before_fields, sort_before_trees, trees_form}
use Rattle.es_tree.specs.Names.{first_text, flag_at}
use Rattle.es_tree.specs.Parens.{without_parens}
use Rattle.es_tree.specs.RestTargets.{is_rest_assignment}
use Rattle.es_tree.specs.Table.{own_kinds, rest_sort}
use Rattle.es_tree.specs.Tree.{Tree, node, Label, Fields, done, ◌then◌, Field, missing, one, many, statements, Trees, empty, ◌before◌, kind_of}
use Rattle.es_tree.specs.Walks.{any_node, any_in_fields, any_in_field, any_in_trees}
use Rattle.es_tree.specs.Words.{Text}
use Rattle.es_tree.specs.declared.ast_type.AstType.{AstType}
use Rattle.es_tree.specs.declared.ast_type.AstType.TheVariants.{AssignmentExpression, BinaryExpression, Identifier, MemberExpression, ObjectTarget, ParenthesizedExpression, TargetRest}
use Rattle.es_tree.specs.declared.options.EnvOptions.{EnvOptions}
use Rattle.es_tree.specs.declared.table.Content.{Content}
use Rattle.es_tree.specs.declared.table.Content.TheVariants.{Child as c-Child}
use Rattle.es_tree.specs.declared.table.Entry.{Entry}
use Rattle.es_tree.specs.declared.table.Often.TheVariants.{Required, Optional, List as a-List, NonEmptyList, ListWithRest, Statements}
use Rattle.es_tree.specs.declared.table.Sort.{Sort}
use Rattle.es_tree.specs.declared.table.Sort.TheVariants.{AssignmentTarget as s-AssignmentTarget, Expression as s-Expression}
use Rattle.es_tree.proofs.NodeForm.{node_form}
use Rattle.es_resolution.proofs.Basics.{bytes_eq-equal}
use Rattle.es_runs.proofs.Named.{or_both, or_first, or_second}
use Rattle.es_runs.specs.Rules.{is_marked}
use Rattle.es_row_laws.specs.Laws.{is_lowered_rest, is_simple, rests_are_simple}
use Rattle.es_tree.specs.declared.place.Place.{Place}
use Rattle.es_tree.specs.declared.place.Place.TheVariants.{Spine}
use Rattle.es_valid_steps.specs.PlaceRules.{Keeps, KeepsAll, KeepsBy, KeepsHere, KeepsIn}
use Rattle.lower_driver.specs.Constructs.{is_built_construct, is_lowered_construct}

-- ASSIGNMENTS

here-of : (up : List Ancestor) (t : Tree) → Keeps up t → KeepsHere up t
here-of up (node k l fs) h = h.0

-- the target of an assignment that is no plain one is simple
kept-simple : (plain : Bool) (kind : AstType) (simple : Bool) → not (list_any (same_type kind) (own_kinds (if plain then s-AssignmentTarget else s-Expression)) || simple) ≡ false → plain ≡ false → simple ≡ true
kept-simple true kind simple h e = absurd (true≢false e)
kept-simple false kind true h e = refl
kept-simple false kind false h e = absurd (true≢false h)

-- an operator that assigns where it is lowered isn't `=`
other-operator : (op x : Text) → bytes_eq op x ≡ true → bytes_eq x (codes "=") ≡ false → bytes_eq op (codes "=") ≡ false
other-operator op x e d = subst (λ (y : Text). bytes_eq y (codes "=") ≡ false) (sym (bytes_eq-equal op x e)) d

-- a target is no place on a chain's spine, nor is what stands in parentheses: a member there has no optional mark
marked-optional : (bs : List Bool) → is_marked MemberExpression bs ≡ flag_at 1 bs
marked-optional [] = refl
marked-optional (a ∷ []) = refl
marked-optional (a ∷ (b ∷ bs)) = refl

abbrev is_off_spine : Place → Bool
is_off_spine Spine = false
is_off_spine _ = true

off-mark : (p : Place) (l : Label) (fs : Fields) → is_off_spine p ≡ true → is_stray_optional p (node MemberExpression l fs) ≡ false → is_marked MemberExpression l.flags ≡ false
off-mark Spine l fs off h = absurd (true≢false (sym off))
off-mark _ l fs off h = marked-optional l.flags ∙ h

simple-kept : (up : List Ancestor) (t : Tree) → Keeps up t → is_off_spine (place_of up) ≡ true → is_simple_target (kind_of (without_parens t)) ≡ true → is_simple t ≡ true
simple-kept up (node ParenthesizedExpression l (one t then fs)) keeps off h = simple-kept (ancestor ParenthesizedExpression l (one t then fs) 0 0 ∷ up) t keeps.1.0 refl h
simple-kept up (node MemberExpression l fs) keeps off h = ap not (off-mark (place_of up) l fs off keeps.0.mark)
simple-kept up (node Identifier l fs) keeps off h = refl
simple-kept up t keeps off h = absurd (true≢false (sym h))

same-and : (b c : Bool) → (b ≡ true → c ≡ true) → (b && c) ≡ b
same-and true c h = h refl
same-and false c h = refl

one-of-three : (op : Text) (b : Bool) → ((bytes_eq op (codes "||=") || bytes_eq op (codes "&&=") || bytes_eq op (codes "??=")) && b) ≡ true → bytes_eq op (codes "=") ≡ false
one-of-three op b h = at (bytes_eq op (codes "||=")) (bytes_eq op (codes "&&=")) (bytes_eq op (codes "??=")) refl refl refl h
  where
    at : (x y z : Bool) → bytes_eq op (codes "||=") ≡ x → bytes_eq op (codes "&&=") ≡ y → bytes_eq op (codes "??=") ≡ z → ((x || y || z) && b) ≡ true → bytes_eq op (codes "=") ≡ false
    at true y z e f g h = other-operator op (codes "||=") e refl
    at false true z e f g h = other-operator op (codes "&&=") f refl
    at false false true e f g h = other-operator op (codes "??=") g refl
    at false false false e f g h = absurd (true≢false (sym h))

raised : (op : Text) (b : Bool) → (bytes_eq op (codes "**=") && b) ≡ true → bytes_eq op (codes "=") ≡ false
raised op b h = at (bytes_eq op (codes "**=")) refl h
  where
    at : (x : Bool) → bytes_eq op (codes "**=") ≡ x → (x && b) ≡ true → bytes_eq op (codes "=") ≡ false
    at true e h = other-operator op (codes "**=") e refl
    at false e h = absurd (true≢false (sym h))

-- RESTS of objects that are assigned to (13.15.5): each is assigned to a name or a member

kept-rest : (simple : Bool) → not simple ≡ false → simple ≡ true
kept-rest true h = refl
kept-rest false h = absurd (true≢false h)

rests-kept : (up : List Ancestor) (l : Label) (all : Fields) (ps : Trees) → KeepsAll (ancestor ObjectTarget l all 0 0 ∷ up) ps → rests_are_simple ps ≡ true
rests-kept up l all empty keeps = refl
rests-kept up l all (node TargetRest m (one t then fs) before ps) keeps =
    let rest = here-of (ancestor TargetRest m (one t then fs) 0 0 ∷ (ancestor ObjectTarget l all 0 0 ∷ up)) t keeps.0.1.0 in
    rw (kept-rest (is_simple_target (kind_of (without_parens t))) rest.rest) (rests-kept up l all ps keeps.1)
rests-kept up l all (p before ps) keeps = rests-kept up l all ps keeps.1

none-assigned : (plain : Bool) → false ≡ (plain && false)
none-assigned true = refl
none-assigned false = refl

rest-same : (up : List Ancestor) (l : Label) (t : Tree) (fs : Fields) → Keeps up t → is_lowered_rest AssignmentExpression l (one t then fs) ≡ is_rest_assignment AssignmentExpression l (one t then fs)
rest-same up l (node ObjectTarget m (many ps then gs)) fs keeps =
    same-and (is_rest_assignment AssignmentExpression l (one (node ObjectTarget m (many ps then gs)) then fs)) (rests_are_simple ps) (λ h. rests-kept up m (many ps then gs) ps keeps.1.0)
rest-same up l (node k m gs) fs keeps = none-assigned (bytes_eq (first_text l.texts) (codes "="))

-- THE ROWS

module _ (o : EnvOptions) where
  abbrev low : AstType → Label → Fields → Bool
  low = is_lowered_construct o

  abbrev built : AstType → Label → Fields → Bool
  built = is_built_construct o

  -- in a node with such fields
  assignment-same : (up : List Ancestor) (l : Label) (fs : Fields) → fields_form AssignmentExpression l (child_entries AssignmentExpression) fs ≡ true → KeepsIn up AssignmentExpression l fs 0 fs → low AssignmentExpression l fs ≡ built AssignmentExpression l fs
  assignment-same up l (one t then fs) form keeps =
      let op = first_text l.texts in
      let kept = (here-of (ancestor AssignmentExpression l (one t then fs) 0 0 ∷ up) t keeps.0).target in
      let kind = is_simple_target (kind_of (without_parens t)) in
      let simple : bytes_eq op (codes "=") ≡ false → is_simple t ≡ true = λ h. simple-kept (ancestor AssignmentExpression l (one t then fs) 0 0 ∷ up) t keeps.0 refl (kept-simple (bytes_eq op (codes "=")) (kind_of t) kind kept h) in
      let logical = same-and (is_logical_assignment AssignmentExpression l (one t then fs)) (is_simple t) (λ h. simple (one-of-three op _ h)) in
      let power = same-and (is_exponentiation AssignmentExpression l (one t then fs)) (is_simple t) (λ h. simple (raised op _ h)) in
      let rest = rest-same (ancestor AssignmentExpression l (one t then fs) 0 0 ∷ up) l t fs keeps.0 in
      λ i. (o.es2021.logical_assignment_operators && logical i) || (o.es2020.nullish_coalescing_operator && false) || (o.es2020.optional_chaining && false) || (o.es2019.optional_catch_binding && false)
      || (is_some o.es2018.object_rest_spread && false) || (is_some o.es2018.object_rest_spread && rest i) || (o.es2016.exponentiation_operator && power i)
  assignment-same up l done form keeps = absurd (true≢false (sym form))
  assignment-same up l (missing then fs) form keeps = absurd (true≢false (sym form))
  assignment-same up l (many ts then fs) form keeps = absurd (true≢false (sym form))
  assignment-same up l (statements ts then fs) form keeps = absurd (true≢false (sym form))

  by-table : (X : Type 0) (k : AstType) (l : Label) (fs : Fields) (p : Option ElementsPlace) → (fields_form k l (child_entries k) fs ≡ true → X) → ((s last : Sort) → elements_form s last fs ≡ true → X) →
      match_option p (fields_form k l (child_entries k) fs) (λ p. elements_form p.sort p.last fs) ≡ true → X
  by-table X k l fs None entries elements h = entries h
  by-table X k l fs (Some p) entries elements h = elements p.sort p.last h

  own-same : (s : Sort) (up : List Ancestor) (k : AstType) (l : Label) (fs : Fields) → has_form s (node k l fs) ≡ true → KeepsIn up k l fs 0 fs → low k l fs ≡ built k l fs
  own-same s up AssignmentExpression l fs form keeps = assignment-same up l fs (node_form s AssignmentExpression l fs form).children keeps
  own-same s up BinaryExpression l fs form keeps = refl
  own-same s up k l fs form keeps = refl

  mutual
    pub tree-settled : (s : Sort) (up : List Ancestor) (t : Tree) → has_form s t ≡ true → Keeps up t → any_node low t ≡ false → any_node built t ≡ false
    tree-settled s up (node k l fs) form keeps none =
        or_both (built k l fs) (any_in_fields built fs) (sym (own-same s up k l fs form keeps.1) ∙ or_first (low k l fs) (any_in_fields low fs) none)
        (by-table (any_in_fields built fs ≡ false) k l fs (elements_of (child_entries k))
        (λ e. entries-settled up k l fs 0 (child_entries k) fs e keeps.1 (or_second (low k l fs) (any_in_fields low fs) none))
        (λ a last e. elements-settled up k l fs 0 a last fs e keeps.1 (or_second (low k l fs) (any_in_fields low fs) none))
        (node_form s k l fs form).children)

    entries-settled : (up : List Ancestor) (k : AstType) (l : Label) (all : Fields) (i : ℕ) (es : List Entry) (fs : Fields) → fields_form k l es fs ≡ true → KeepsIn up k l all i fs → any_in_fields low fs ≡ false → any_in_fields built fs ≡ false
    entries-settled up k l all i es done h keeps none = refl
    entries-settled up k l all i [] (f then fs) h keeps none = absurd (true≢false (sym h))
    entries-settled up k l all i (e ∷ es) (f then fs) h keeps none =
        let parts = and_parts (field_form k l e.content f) (fields_form k l es fs) h in
        or_both (any_in_field built f) (any_in_fields built fs) (content-settled (ancestor k l all i 0 ∷ up) k l e.content f parts.0 keeps.0 (or_first (any_in_field low f) (any_in_fields low fs) none))
        (entries-settled up k l all (suc i) es fs parts.1 keeps.1 (or_second (any_in_field low f) (any_in_fields low fs) none))

    content-settled : (up : List Ancestor) (k : AstType) (l : Label) (c : Content) (f : Field) → field_form k l c f ≡ true → KeepsBy up f → any_in_field low f ≡ false → any_in_field built f ≡ false
    content-settled up k l (c-Child s Required) (one t) h keeps none = tree-settled (sort_at k l s) up t h keeps none
    content-settled up k l (c-Child s Optional) missing h keeps none = refl
    content-settled up k l (c-Child s Optional) (one t) h keeps none = tree-settled (sort_at k l s) up t h keeps none
    content-settled up k l (c-Child s a-List) (many ts) h keeps none = trees-settled s s up ts h keeps none
    content-settled up k l (c-Child s NonEmptyList) (many empty) h keeps none = absurd (true≢false (sym h))
    content-settled up k l (c-Child s NonEmptyList) (many (t before ts)) h keeps none = trees-settled s s up (t before ts) h keeps none
    content-settled up k l (c-Child s ListWithRest) (many ts) h keeps none = trees-settled s (rest_sort s) up ts h keeps none
    content-settled up k l (c-Child s Statements) (statements ts) h keeps none = trees-settled s s up ts h keeps none
    content-settled up k l c f h keeps none = absurd (true≢false (sym h))

    trees-settled : (s last : Sort) (up : List Ancestor) (ts : Trees) → trees_form s last ts ≡ true → KeepsAll up ts → any_in_trees low ts ≡ false → any_in_trees built ts ≡ false
    trees-settled s last up empty h keeps none = refl
    trees-settled s last up (t before ts) h keeps none =
        let parts = and_parts (has_form (sort_before_trees s last ts) t) (trees_form s last ts) h in
        or_both (any_node built t) (any_in_trees built ts) (tree-settled (sort_before_trees s last ts) up t parts.0 keeps.0 (or_first (any_node low t) (any_in_trees low ts) none))
        (trees-settled s last up ts parts.1 keeps.1 (or_second (any_node low t) (any_in_trees low ts) none))

    elements-settled : (up : List Ancestor) (k : AstType) (l : Label) (all : Fields) (i : ℕ) (s last : Sort) (fs : Fields) → elements_form s last fs ≡ true → KeepsIn up k l all i fs → any_in_fields low fs ≡ false → any_in_fields built fs ≡ false
    elements-settled up k l all i s last done h keeps none = refl
    elements-settled up k l all i s last (f then fs) h keeps none =
        let parts = and_parts (element_form (sort_before_fields s last fs) f) (elements_form s last fs) h in
        or_both (any_in_field built f) (any_in_fields built fs) (element-settled (sort_before_fields s last fs) (ancestor k l all i 0 ∷ up) f parts.0 keeps.0 (or_first (any_in_field low f) (any_in_fields low fs) none))
        (elements-settled up k l all (suc i) s last fs parts.1 keeps.1 (or_second (any_in_field low f) (any_in_fields low fs) none))

    element-settled : (s : Sort) (up : List Ancestor) (f : Field) → element_form s f ≡ true → KeepsBy up f → any_in_field low f ≡ false → any_in_field built f ≡ false
    element-settled s up missing h keeps none = refl
    element-settled s up (one t) h keeps none = tree-settled s up t h keeps none
    element-settled s up (many ts) h keeps none = absurd (true≢false (sym h))
    element-settled s up (statements ts) h keeps none = absurd (true≢false (sym h))
