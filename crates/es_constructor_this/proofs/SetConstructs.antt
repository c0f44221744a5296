-- No construct that options ask to lower comes with a name for `this` that is set behind `super(..)`: what is made is a sequence and an assignment by `=`, and
-- other nodes stay of their kinds.
use Rattle.std.proofs.Common.{◌≡◌, ◌∙◌, ℕ, zero, suc, refl, sym, ap}
use Rattle.std.specs.Prelude.{Bool, true, false, ◌&&◌, ◌||◌, Option, Some, None, if◌then◌else◌, is_some}
use Rattle.std.proofs.lemmas.Bool.{or_from, or_parts}
use Rattle.es_tree.specs.Constructs.{any_kind, field_at, is_child, is_enabled_construct, is_private_member, is_private_name, is_private_target}
use Rattle.es_tree.specs.HasForm.{same_type}
use Rattle.es_tree.specs.Tree.{Tree, node, Label, Fields, done, ◌then◌, Field, missing, one, many, statements, Trees, empty, ◌before◌, kind_of, label_of}
use Rattle.es_tree.specs.Walks.{any_in_field, any_in_fields, any_in_trees, any_node}
use Rattle.es_tree.specs.Words.{Text}
use Rattle.es_tree.specs.declared.ast_type.AstType.{AstType}
use Rattle.es_tree.specs.declared.ast_type.AstType.TheVariants.{CallExpression, ChainExpression, ExpressionStatement, FunctionBody, Identifier, MemberExpression, ParenthesizedExpression, VariableDeclaration, VariableDeclarator}
use Rattle.es_tree.specs.declared.options.EnvOptions.{EnvOptions}
use Rattle.es_super_calls.specs.Constructors.{is_body, standing_in}
use Rattle.es_super_calls.specs.SuperCalls.{calls_it, is_super_statement}
use Rattle.es_super_calls.specs.declared.standing.ClassStanding.{ClassStanding}
use Rattle.es_super_calls.specs.declared.standing.ClassStanding.TheVariants.{Elsewhere}
use Rattle.es_set_this.specs.ConstructorThis.{after_super, after_super_among, after_super_by, after_super_in, in_arguments, is_left, is_list, names_among, plain_name, set_behind, set_here, set_in_body, set_statement, set_statements, set_this, set_this_among, set_this_by, set_this_in, settled, then_set, this_name, up_to_super, with_this_set, without_value}
use Rattle.es_constructor_this.specs.Laws.{LawSetNone}
use Rattle.es_constructor_this.proofs.SameConstructs.{Blind, FieldAlike, FieldsAlike, construct-same, field-alike, list-alike, many-alike, one-alike}
use Rattle.es_constructor_this.proofs.SetKept.{not-both}

-- WHERE CALLS ARE FOLLOWED kinds stay

module _ (x : Tree) where
  after-kinds : (p : AstType → Bool) → Blind p → (t : Tree) → p (kind_of (after_super x t)) ≡ p (kind_of t)
  after-kinds p e (node CallExpression l fs) = at (calls_it (after_super_in x false fs))
    where
      gs : Fields
      gs = after_super_in x false fs

      at : (c : Bool) → p (kind_of (if c then then_set x l gs else node CallExpression l gs)) ≡ p CallExpression
      at true = sym e
      at false = refl
  after-kinds p e (node ChainExpression l fs) = at (is_left ChainExpression fs)
    where
      at : (c : Bool) → p (kind_of (if c then node ChainExpression l fs else node ChainExpression l (after_super_in x false fs))) ≡ p ChainExpression
      at true = refl
      at false = refl
  after-kinds p e (node k l fs) = refl

  after-members : (p : AstType → Bool) → Blind p → (ts : Trees) → any_kind p (after_super_among x ts) ≡ any_kind p ts
  after-members p e empty = refl
  after-members p e (t before ts) = λ i. after-kinds p e t i || after-members p e ts i

  mutual
    after-target : (t : Tree) → is_private_target (one (after_super x t)) ≡ is_private_target (one t)
    after-target (node ParenthesizedExpression l (one t then fs)) = after-target t
    after-target (node ParenthesizedExpression l fs) = refl
    after-target (node MemberExpression l fs) = (after-alike false fs 1).kinds is_private_name refl
    after-target (node CallExpression l fs) = at (calls_it (after_super_in x false fs))
      where
        gs : Fields
        gs = after_super_in x false fs

        at : (c : Bool) → is_private_target (one (if c then then_set x l gs else node CallExpression l gs)) ≡ false
        at true = refl
        at false = refl
    after-target (node ChainExpression l fs) = at (is_left ChainExpression fs)
      where
        at : (c : Bool) → is_private_target (one (if c then node ChainExpression l fs else node ChainExpression l (after_super_in x false fs))) ≡ false
        at true = refl
        at false = refl
    after-target (node k l fs) = refl

    after-by : (lists : Bool) (f : Field) → FieldAlike f (after_super_by x lists f)
    after-by lists missing = field-alike missing
    after-by lists (one t) = one-alike t (after_super x t) (record { kinds = λ p e. after-kinds p e t; target = after-target t })
    after-by lists (many ts) = many-alike ts (after_super_among x ts) (λ p e. after-members p e ts)
    after-by lists (statements ts) = list-alike ts (if lists then with_this_set x (up_to_super x ts) else ts)

    after-alike : (lists : Bool) (fs : Fields) → FieldsAlike fs (after_super_in x lists fs)
    after-alike lists done i = field-alike missing
    after-alike lists (f then fs) zero = after-by lists f
    after-alike lists (f then fs) (suc i) = after-alike lists fs i

-- WHERE BODIES ARE SET they do, too

module _ (made : Text → Bool) where
  here-only : (s : ClassStanding) (k : AstType) (fs : Fields) → same_type k FunctionBody ≡ false → set_here made s k fs ≡ fs
  here-only s k fs e = not-both (is_body s) (same_type k FunctionBody) (set_in_body made fs) fs e

  set-kinds : (p : AstType → Bool) (s : ClassStanding) (t : Tree) → p (kind_of (set_this made s t)) ≡ p (kind_of t)
  set-kinds p s (node k l fs) = refl

  set-members : (p : AstType → Bool) (s : ClassStanding) (ts : Trees) → any_kind p (set_this_among made s ts) ≡ any_kind p ts
  set-members p s empty = refl
  set-members p s (t before ts) = λ i. set-kinds p s t i || set-members p s ts i

  private-set : (c : ℕ → ClassStanding) (fs : Fields) → is_child is_private_name (field_at 1 (set_this_in made c fs)) ≡ is_child is_private_name (field_at 1 fs)
  private-set c done = refl
  private-set c (f then done) = refl
  private-set c (f then (missing then fs)) = refl
  private-set c (f then (one t then fs)) = set-kinds is_private_name (c 1) t
  private-set c (f then (many ts then fs)) = refl
  private-set c (f then (statements ts then fs)) = refl

  mutual
    set-target : (s : ClassStanding) (t : Tree) → is_private_target (one (set_this made s t)) ≡ is_private_target (one t)
    set-target s (node ParenthesizedExpression l fs) =
        let c : ℕ → ClassStanding = standing_in s ParenthesizedExpression l fs in
        ap (λ gs. is_private_target (one (node ParenthesizedExpression l gs))) (here-only s ParenthesizedExpression (set_this_in made c fs) refl) ∙ set-inside c l fs
    set-target s (node MemberExpression l fs) =
        let c : ℕ → ClassStanding = standing_in s MemberExpression l fs in
        ap (is_private_member MemberExpression) (here-only s MemberExpression (set_this_in made c fs) refl) ∙ private-set c fs
    set-target s (node k l fs) = refl

    set-inside : (c : ℕ → ClassStanding) (l : Label) (fs : Fields) → is_private_target (one (node ParenthesizedExpression l (set_this_in made c fs))) ≡ is_private_target (one (node ParenthesizedExpression l fs))
    set-inside c l done = refl
    set-inside c l (missing then fs) = refl
    set-inside c l (one t then fs) = set-target (c 0) t
    set-inside c l (many ts then fs) = refl
    set-inside c l (statements ts then fs) = refl

  set-by : (s : ClassStanding) (f : Field) → FieldAlike f (set_this_by made s f)
  set-by s missing = field-alike missing
  set-by s (one t) = one-alike t (set_this made s t) (record { kinds = λ p e. set-kinds p s t; target = set-target s t })
  set-by s (many ts) = many-alike ts (set_this_among made s ts) (λ p e. set-members p s ts)
  set-by s (statements ts) = list-alike ts (set_this_among made s ts)

  set-alike : (c : ℕ → ClassStanding) (fs : Fields) → FieldsAlike fs (set_this_in made c fs)
  set-alike c done i = field-alike missing
  set-alike c (f then fs) zero = set-by (c zero) f
  set-alike c (f then fs) (suc i) = set-alike (λ j. c (suc j)) fs i

  -- a node that becomes so
  here-same : (o : EnvOptions) (s : ClassStanding) (c : ℕ → ClassStanding) (k : AstType) (l : Label) (fs : Fields) → is_enabled_construct o k l (set_here made s k (set_this_in made c fs)) ≡ is_enabled_construct o k l fs
  here-same o s c FunctionBody l fs = refl
  here-same o s c k l fs = ap (is_enabled_construct o k l) (here-only s k (set_this_in made c fs) refl) ∙ construct-same l fs (set_this_in made c fs) (set-alike c fs) o k

-- WHAT IS MADE is no construct

and-none : (b : Bool) → (b && false) ≡ false
and-none true = refl
and-none false = refl

module _ (o : EnvOptions) where
  abbrev is_one : AstType → Label → Fields → Bool
  is_one = is_enabled_construct o

  name-none : (l : Label) → is_one Identifier l done ≡ false
  name-none l = λ i.
      (and-none o.es2016.exponentiation_operator i
      || and-none o.es2020.nullish_coalescing_operator i
      || and-none o.es2020.optional_chaining i
      || and-none o.es2021.logical_assignment_operators i
      || and-none (is_some o.es2018.object_rest_spread) i
      || and-none (is_some o.es2015.arrow_function) i)
      || (and-none o.es2019.optional_catch_binding i || and-none o.es2020.export_namespace_from i || and-none o.es2026.explicit_resource_management i)

  no-name : (l : Label) → any_node is_one (node Identifier l done) ≡ false
  no-name l = or_from (is_one Identifier l done) false (name-none l) refl

  call-none : (l : Label) (fs : Fields) → any_in_fields is_one fs ≡ false → any_node is_one (node CallExpression l fs) ≡ false
  call-none l fs h = λ j. name-none l j || h j

  module _ (i : Label) where
    abbrev x : Tree
    x = node Identifier i done

    set-none : any_node is_one (set_statement x) ≡ false
    set-none = λ j. name-none i j || ((name-none i j || (no-name i j || (no-name i j || false))) || false)

    then-none : (l : Label) (fs : Fields) → any_in_fields is_one fs ≡ false → any_node is_one (then_set x l fs) ≡ false
    then-none l fs h = λ j. name-none i j || ((call-none l fs h j || ((name-none i j || (no-name i j || (no-name i j || false))) || false)) || false)

    with-none : (ts : Trees) → any_in_trees is_one ts ≡ false → any_in_trees is_one (with_this_set x ts) ≡ false
    with-none empty h = h
    with-none (t before ts) h = at (is_super_statement t) (with-none ts parts.1)
      where
        parts : (any_node is_one t ≡ false) × (any_in_trees is_one ts ≡ false)
        parts = or_parts (any_node is_one t) (any_in_trees is_one ts) h

        at : (b : Bool) → any_in_trees is_one (with_this_set x ts) ≡ false → any_in_trees is_one (if b then t before (set_statement x before ts) else t before with_this_set x ts) ≡ false
        at true later = λ j. parts.0 j || (set-none j || parts.1 j)
        at false later = λ j. parts.0 j || later j

    settled-none : (k : AstType) (l : Label) (fs : Fields) → is_one k l fs ≡ false → any_in_fields is_one fs ≡ false → any_node is_one (settled x k l fs) ≡ false
    settled-none CallExpression l fs own h = at (calls_it fs)
      where
        at : (c : Bool) → any_node is_one (if c then then_set x l fs else node CallExpression l fs) ≡ false
        at true = then-none l fs h
        at false = call-none l fs h
    settled-none k l fs own h = or_from (is_one k l fs) (any_in_fields is_one fs) own h

    left-none : (k : AstType) (l : Label) (fs gs : Fields) (c : Bool) → any_node is_one (node k l fs) ≡ false → any_node is_one (settled x k l gs) ≡ false → any_node is_one (if c then node k l fs else settled x k l gs) ≡ false
    left-none k l fs gs true h g = h
    left-none k l fs gs false h g = g

    list-none : (c : Bool) (ts us : Trees) → any_in_trees is_one ts ≡ false → any_in_trees is_one us ≡ false → any_in_trees is_one (if c then with_this_set x us else ts) ≡ false
    list-none true ts us h g = with-none us g
    list-none false ts us h g = h

    statement-none : (t : Tree) (ts us : Trees) (c : Bool) → is_super_statement t ≡ c → (is_super_statement t ≡ true → any_node is_one (in_arguments x t) ≡ false) → any_node is_one (after_super x t) ≡ false → any_in_trees is_one ts ≡ false → any_in_trees is_one us ≡ false →
        any_in_trees is_one (if c then in_arguments x t before ts else after_super x t before us) ≡ false
    statement-none t ts us true e a h g r = λ j. a e j || g j
    statement-none t ts us false e a h g r = λ j. h j || r j

    mutual
      after-none : (t : Tree) → any_node is_one t ≡ false → any_node is_one (after_super x t) ≡ false
      after-none (node k l fs) h =
          let parts = or_parts (is_one k l fs) (any_in_fields is_one fs) h in
          let gs : Fields = after_super_in x (is_list k) fs in
          left-none k l fs gs (is_left k fs) h (settled-none k l gs (construct-same l fs gs (after-alike x (is_list k) fs) o k ∙ parts.0) (in-none (is_list k) fs parts.1))

      in-none : (lists : Bool) (fs : Fields) → any_in_fields is_one fs ≡ false → any_in_fields is_one (after_super_in x lists fs) ≡ false
      in-none lists done h = h
      in-none lists (f then fs) h =
          let parts = or_parts (any_in_field is_one f) (any_in_fields is_one fs) h in
          or_from (any_in_field is_one (after_super_by x lists f)) (any_in_fields is_one (after_super_in x lists fs)) (by-none lists f parts.0) (in-none lists fs parts.1)

      by-none : (lists : Bool) (f : Field) → any_in_field is_one f ≡ false → any_in_field is_one (after_super_by x lists f) ≡ false
      by-none lists missing h = h
      by-none lists (one t) h = after-none t h
      by-none lists (many ts) h = among-none ts h
      by-none lists (statements ts) h = list-none lists ts (up_to_super x ts) h (up-none ts h)

      among-none : (ts : Trees) → any_in_trees is_one ts ≡ false → any_in_trees is_one (after_super_among x ts) ≡ false
      among-none empty h = h
      among-none (t before ts) h =
          let parts = or_parts (any_node is_one t) (any_in_trees is_one ts) h in
          or_from (any_node is_one (after_super x t)) (any_in_trees is_one (after_super_among x ts)) (after-none t parts.0) (among-none ts parts.1)

      up-none : (ts : Trees) → any_in_trees is_one ts ≡ false → any_in_trees is_one (up_to_super x ts) ≡ false
      up-none empty h = h
      up-none (t before ts) h =
          let parts = or_parts (any_node is_one t) (any_in_trees is_one ts) h in
          statement-none t ts (up_to_super x ts) (is_super_statement t) refl (λ e. arguments-none t e parts.0) (after-none t parts.0) parts.1 (up-none ts parts.1)

      arguments-none : (t : Tree) → is_super_statement t ≡ true → any_node is_one t ≡ false → any_node is_one (in_arguments x t) ≡ false
      arguments-none (node ExpressionStatement l (one (node CallExpression m fs) then done)) e h =
          let parts = or_parts (is_one ExpressionStatement l (one (node CallExpression m fs) then done)) (any_node is_one (node CallExpression m fs) || false) h in
          let call = or_parts (any_node is_one (node CallExpression m fs)) false parts.1 in
          let inner = or_parts (is_one CallExpression m fs) (any_in_fields is_one fs) call.0 in
          λ j. name-none l j || (call-none m (after_super_in x false fs) (in-none false fs inner.1) j || false)
      arguments-none (node ExpressionStatement l (one (node k m fs) then done)) e h = absurd (cc e)
      arguments-none (node k l fs) e h = absurd (cc e)

  -- BODIES

  value-none : (d : Tree) → any_node is_one d ≡ false → any_node is_one (without_value d) ≡ false
  value-none (node VariableDeclaration m (many (node VariableDeclarator k (f then (g then done)) before empty) then done)) h =
      let c : Tree = node VariableDeclarator k (f then (g then done)) in
      let parts = or_parts (is_one VariableDeclaration m (many (c before empty) then done)) ((any_node is_one c || false) || false) h in
      let inner = or_parts (any_node is_one c || false) false parts.1 in
      let it = or_parts (any_node is_one c) false inner.0 in
      let fields = or_parts (is_one VariableDeclarator k (f then (g then done))) (any_in_field is_one f || (any_in_field is_one g || false)) it.0 in
      let name = or_parts (any_in_field is_one f) (any_in_field is_one g || false) fields.1 in
      λ j. parts.0 j || (((name-none k j || (name.0 j || (false || false))) || false) || false)
  value-none d h = h

  module _ (made : Text → Bool) where
    behind-none : (r : Option Text) (d : Tree) (ts : Trees) → any_node is_one d ≡ false → any_in_trees is_one ts ≡ false → any_in_trees is_one (set_behind r d ts) ≡ false
    behind-none None d ts h g = or_from (any_node is_one d) (any_in_trees is_one ts) h g
    behind-none (Some y) d ts h g = at (names_among y ts)
      where
        at : (b : Bool) → any_in_trees is_one (if b then d before ts else without_value d before with_this_set (plain_name y) (up_to_super (plain_name y) ts)) ≡ false
        at true = or_from (any_node is_one d) (any_in_trees is_one ts) h g
        at false = λ j. value-none d h j || with-none (label_of (plain_name y)) (up_to_super (plain_name y) ts) (up-none (label_of (plain_name y)) ts g) j

    statements-none : (ts : Trees) → any_in_trees is_one ts ≡ false → any_in_trees is_one (set_statements made ts) ≡ false
    statements-none empty h = h
    statements-none (d before ts) h = let parts = or_parts (any_node is_one d) (any_in_trees is_one ts) h in behind-none (this_name made d) d ts parts.0 parts.1

    body-none : (fs : Fields) → any_in_fields is_one fs ≡ false → any_in_fields is_one (set_in_body made fs) ≡ false
    body-none (f then (statements ts then done)) h =
        let parts = or_parts (any_in_field is_one f) (any_in_trees is_one ts || false) h in
        let inner = or_parts (any_in_trees is_one ts) false parts.1 in
        or_from (any_in_field is_one f) (any_in_trees is_one (set_statements made ts) || false) parts.0 (or_from (any_in_trees is_one (set_statements made ts)) false (statements-none ts inner.0) refl)
    body-none fs h = h

    here-none : (s : ClassStanding) (k : AstType) (fs : Fields) → any_in_fields is_one fs ≡ false → any_in_fields is_one (set_here made s k fs) ≡ false
    here-none s k fs h = at (is_body s && same_type k FunctionBody)
      where
        at : (b : Bool) → any_in_fields is_one (if b then set_in_body made fs else fs) ≡ false
        at true = body-none fs h
        at false = h

    mutual
      tree-none : (s : ClassStanding) (t : Tree) → any_node is_one t ≡ false → any_node is_one (set_this made s t) ≡ false
      tree-none s (node k l fs) h =
          let c : ℕ → ClassStanding = standing_in s k l fs in
          let parts = or_parts (is_one k l fs) (any_in_fields is_one fs) h in
          let gs : Fields = set_here made s k (set_this_in made c fs) in
          or_from (is_one k l gs) (any_in_fields is_one gs) (here-same made o s c k l fs ∙ parts.0) (here-none s k (set_this_in made c fs) (fields-none c fs parts.1))

      fields-none : (c : ℕ → ClassStanding) (fs : Fields) → any_in_fields is_one fs ≡ false → any_in_fields is_one (set_this_in made c fs) ≡ false
      fields-none c done h = h
      fields-none c (f then fs) h =
          let parts = or_parts (any_in_field is_one f) (any_in_fields is_one fs) h in
          or_from (any_in_field is_one (set_this_by made (c zero) f)) (any_in_fields is_one (set_this_in made (λ i. c (suc i)) fs)) (field-none (c zero) f parts.0) (fields-none (λ i. c (suc i)) fs parts.1)

      field-none : (s : ClassStanding) (f : Field) → any_in_field is_one f ≡ false → any_in_field is_one (set_this_by made s f) ≡ false
      field-none s missing h = h
      field-none s (one t) h = tree-none s t h
      field-none s (many ts) h = trees-none s ts h
      field-none s (statements ts) h = trees-none s ts h

      trees-none : (s : ClassStanding) (ts : Trees) → any_in_trees is_one ts ≡ false → any_in_trees is_one (set_this_among made s ts) ≡ false
      trees-none s empty h = h
      trees-none s (t before ts) h =
          let parts = or_parts (any_node is_one t) (any_in_trees is_one ts) h in
          or_from (any_node is_one (set_this made s t)) (any_in_trees is_one (set_this_among made s ts)) (tree-none s t parts.0) (trees-none s ts parts.1)

pub law_set_none_proof : LawSetNone
law_set_none_proof o made p h = tree-none o made Elsewhere p h
