-- A program in which no construct stands that the options ask to lower has no shape that a run doesn't take.
use Rattle.std.proofs.Common.{◌≡◌, ℕ, zero, suc, None, refl, sym, ◌∙◌, List, true≢false}
use Rattle.std.specs.Prelude.{Bool, true, false, ◌&&◌, ◌||◌, not, is_some, codes}
use Rattle.es_tree.specs.Children.{child_at}
use Rattle.es_tree.specs.Constructs.{field_at, has_enabled_construct, is_chain, is_enabled_construct, is_exponentiation, is_logical_assignment, is_nullish_coalescing, is_object_rest, is_object_spread, is_using}
use Rattle.es_tree.specs.HasForm.{same_type}
use Rattle.es_tree.specs.Names.{first_text}
use Rattle.es_tree.specs.Parens.{without_parens}
use Rattle.es_tree.specs.StaticRules.{is_accessor_word}
use Rattle.es_tree.specs.Tree.{Tree, node, Label, Fields, done, ◌then◌, Field, missing, one, many, statements, Trees, empty, ◌before◌, kind_of}
use Rattle.es_tree.specs.Walks.{any_node, any_in_fields, any_in_field, any_in_trees}
use Rattle.es_tree.specs.declared.ast_type.AstType.{AstType}
use Rattle.es_tree.specs.declared.ast_type.AstType.TheVariants.{ArrowFunctionExpression, AssignmentExpression, ChainExpression, ObjectProperty, ObjectTarget, ParenthesizedExpression, TaggedTemplateExpression}
use Rattle.es_tree.specs.declared.options.EnvOptions.{EnvOptions}
use Rattle.es_runs.proofs.Named.{or_both, or_first, or_second}
use Rattle.es_semantic.specs.Places.{outermost}
use Rattle.es_semantic.specs.SymbolsOf.{Declared, find, symbols_of}
use Rattle.es_steps.specs.Slots.{closes, holds, holds_field, holds_fields, holds_trees}
use Rattle.es_tree.specs.RestTargets.{is_rest_target}
use Rattle.es_steps.specs.WrapRule.{is_wrapped_for, takes_for_target}
use Rattle.es_valid_steps.specs.ArrowNodes.{is_arrow_accessor, is_kind_within}
use Rattle.es_unsupported.specs.FirstUnsupported.{first_unsupported}
use Rattle.es_runs.specs.OptionalChaining.{is_chain_kind}
use Rattle.es_chain_tags.specs.ChainTags.{has_chain_tag, is_chain_below}
use Rattle.es_unsupported.specs.NodePlaces.{program_place}
use Rattle.es_unsupported.specs.Shapes.{holds_stray, is_unbuilt_node, shape_at}
use Rattle.es_conditions.specs.CoreConditions.{is_copied}
use Rattle.es_rest_shapes.specs.HelperNames.{binds_helpers}
use Rattle.es_rest_shapes.specs.RestShapes.{is_rest_declaration}
use Rattle.es_rest_shapes.proofs.NoneLeft.{declaration-rest}
use Rattle.lower_driver.proofs.EitherTest.{any-where, any-where-in, fewer-in-fields, fewer-in-tree}
use Rattle.es_unsupported.specs.SpreadLiterals.{has_uncopied}
use Rattle.es_unsupported.proofs.QuietStrays.{holds_stray-none}
use Rattle.es_unsupported.proofs.QuietUsing.{asks-none, clashes-none}
use Rattle.es_using_heads.specs.Heads.{asks_its_name}
use Rattle.es_using_nodes.specs.Clashes.{clashes}
use Rattle.lower_driver.proofs.EnabledRows.{none-of-rows}
use Rattle.lower_driver.proofs.QuietArrows.{none-of}

-- THE SHAPES

-- what is asked with something more holds no more
with-more : (asked is more : Bool) → (asked && is) ≡ false → (asked && is && more) ≡ false
with-more true true more h = absurd (cc h)
with-more true false more h = refl
with-more false is more h = refl

in-both : (asked is more : Bool) → (asked && is) ≡ false → (asked && (is && more)) ≡ false
in-both true true more h = absurd (cc h)
in-both true false more h = refl
in-both false is more h = refl

off : (b : Bool) → (b && false) ≡ false
off true = refl
off false = refl

and-true : (b : Bool) → (b && true) ≡ b
and-true true = refl
and-true false = refl

with-middle : (asked also is : Bool) → (asked && is) ≡ false → (asked && also && is) ≡ false
with-middle true true is h = h
with-middle true false is h = refl
with-middle false also is h = refl

last-off : (a b : Bool) → b ≡ false → (a && b) ≡ false
last-off true b h = h
last-off false b h = refl

quiet-where : (on inside test : Bool) → (on && inside) ≡ false → (inside ≡ false → test ≡ false) → (on && test) ≡ false
quiet-where true inside test h f = f h
quiet-where false inside test h f = refl

in-either : (on spread rest : Bool) → (on && spread) ≡ false → (on && rest) ≡ false → (on && (spread || rest)) ≡ false
in-either true spread rest h g = rw (h, g) refl
in-either false spread rest h g = refl

neither-bound : (on copied bound declared binds : Bool) → (on && copied) ≡ false → (on && declared) ≡ false → (on && ((copied && bound) || (declared && binds))) ≡ false
neither-bound true copied bound declared binds h g = rw (h, g) refl
neither-bound false copied bound declared binds h g = refl

wrapped-none : (e power n c g logical assigns takes r target : Bool) → (e && power) ≡ false → n ≡ false → c ≡ false → (g && logical) ≡ false → (r && target) ≡ false → (n || c || (e && assigns && power) || (g && logical && takes) || (r && assigns && target)) ≡ false
wrapped-none e power n c g logical assigns takes r target h1 h2 h3 h4 h5 = rw (h2, h3, with-middle e assigns power h1, with-more g logical takes h4, with-middle r assigns target h5) refl

module _ (o : EnvOptions) where
  no-chain : (k : AstType) (l : Label) (fs : Fields) → is_enabled_construct o k l fs ≡ false → (o.es2020.optional_chaining && is_chain k l fs) ≡ false
  no-chain k l fs h = (none-of-rows o k l fs h).chain

  -- neither is the expression inside its parentheses a chain
  no-chain-inside : (t : Tree) → any_node (is_enabled_construct o) t ≡ false → (o.es2020.optional_chaining && is_chain_kind (kind_of (without_parens t))) ≡ false
  no-chain-inside (node ParenthesizedExpression l (one t then fs)) h =
      no-chain-inside t (or_first (any_node (is_enabled_construct o) t) (any_in_fields (is_enabled_construct o) fs) (or_second (is_enabled_construct o ParenthesizedExpression l (one t then fs)) (any_node (is_enabled_construct o) t || any_in_fields (is_enabled_construct o) fs) h))
  no-chain-inside (node ChainExpression l fs) h = no-chain ChainExpression l fs (or_first (is_enabled_construct o ChainExpression l fs) (any_in_fields (is_enabled_construct o) fs) h)
  no-chain-inside (node _ l fs) h = off o.es2020.optional_chaining

  no-chain-below : (fs : Fields) → any_in_fields (is_enabled_construct o) fs ≡ false → (o.es2020.optional_chaining && is_chain_below (field_at 0 fs)) ≡ false
  no-chain-below done h = off o.es2020.optional_chaining
  no-chain-below (missing then fs) h = off o.es2020.optional_chaining
  no-chain-below (one t then fs) h = no-chain-inside t (or_first (any_node (is_enabled_construct o) t) (any_in_fields (is_enabled_construct o) fs) h)
  no-chain-below (many ts then fs) h = off o.es2020.optional_chaining
  no-chain-below (statements ts then fs) h = off o.es2020.optional_chaining

  no-tag : (k : AstType) (l : Label) (fs : Fields) → any_in_fields (is_enabled_construct o) fs ≡ false → (o.es2020.optional_chaining && has_chain_tag k l fs) ≡ false
  no-tag TaggedTemplateExpression l fs h = no-chain-below fs h
  no-tag _ l fs h = off o.es2020.optional_chaining

  -- NEITHER ARROWS NOR SLOTS

  no-arrow : is_some o.es2015.arrow_function ≡ true → (k : AstType) (l : Label) (fs : Fields) → is_enabled_construct o k l fs ≡ false → same_type k ArrowFunctionExpression ≡ false
  no-arrow on ArrowFunctionExpression l fs h = absurd (true≢false (sym on ∙ sym (and-true (is_some o.es2015.arrow_function)) ∙ (none-of-rows o ArrowFunctionExpression l fs h).arrow))
  no-arrow on k l fs h = refl

  no-arrow-within : is_some o.es2015.arrow_function ≡ true → (fs : Fields) (i : ℕ) → any_in_fields (is_enabled_construct o) fs ≡ false → is_kind_within ArrowFunctionExpression (child_at i fs) ≡ false
  no-arrow-within on done i h = refl
  no-arrow-within on (one (node k l gs) then fs) zero h =
      no-arrow on k l gs (or_first (is_enabled_construct o k l gs) (any_in_fields (is_enabled_construct o) gs) (or_first (any_node (is_enabled_construct o) (node k l gs)) (any_in_fields (is_enabled_construct o) fs) h))
  no-arrow-within on (missing then fs) zero h = refl
  no-arrow-within on (many ts then fs) zero h = refl
  no-arrow-within on (statements ts then fs) zero h = refl
  no-arrow-within on (f then fs) (suc i) h = no-arrow-within on fs i (or_second (any_in_field (is_enabled_construct o) f) (any_in_fields (is_enabled_construct o) fs) h)

  no-accessor : is_some o.es2015.arrow_function ≡ true → (k : AstType) (l : Label) (fs : Fields) → any_in_fields (is_enabled_construct o) fs ≡ false → is_arrow_accessor k l fs ≡ false
  no-accessor on ObjectProperty l fs h = last-off (is_accessor_word (first_text l.texts)) (is_kind_within ArrowFunctionExpression (child_at 1 fs)) (no-arrow-within on fs 1 h)
  no-accessor on k l fs h = refl

  -- what a slot is wrapped for is asked for
  no-rest-target : (f : Field) → any_in_field (is_enabled_construct o) f ≡ false → (is_some o.es2018.object_rest_spread && is_rest_target f) ≡ false
  no-rest-target (one (node ObjectTarget l fs)) h =
      (none-of-rows o ObjectTarget l fs (or_first (is_enabled_construct o ObjectTarget l fs) (any_in_fields (is_enabled_construct o) fs) h)).rest
  no-rest-target (one (node k l fs)) h = off (is_some o.es2018.object_rest_spread)
  no-rest-target missing h = off (is_some o.es2018.object_rest_spread)
  no-rest-target (many ts) h = off (is_some o.es2018.object_rest_spread)
  no-rest-target (statements ts) h = off (is_some o.es2018.object_rest_spread)

  no-target-in : (fs : Fields) → any_in_fields (is_enabled_construct o) fs ≡ false → (is_some o.es2018.object_rest_spread && is_rest_target (field_at 0 fs)) ≡ false
  no-target-in done h = off (is_some o.es2018.object_rest_spread)
  no-target-in (f then fs) h = no-rest-target f (or_first (any_in_field (is_enabled_construct o) f) (any_in_fields (is_enabled_construct o) fs) h)

  not-wrapped : (k : AstType) (l : Label) (fs : Fields) → any_node (is_enabled_construct o) (node k l fs) ≡ false → is_wrapped_for o k l fs ≡ false
  not-wrapped k l fs h =
      let own = none-of-rows o k l fs (or_first (is_enabled_construct o k l fs) (any_in_fields (is_enabled_construct o) fs) h) in
      wrapped-none (o.es2016.exponentiation_operator) (is_exponentiation k l fs) (o.es2020.nullish_coalescing_operator && is_nullish_coalescing k l fs) (o.es2020.optional_chaining && is_chain k l fs) (o.es2021.logical_assignment_operators)
      (is_logical_assignment k l fs) (same_type k AssignmentExpression) (takes_for_target o l fs) (is_some o.es2018.object_rest_spread) (is_rest_target (field_at 0 fs))
      own.power own.nullish own.chain own.logical (no-target-in fs (or_second (is_enabled_construct o k l fs) (any_in_fields (is_enabled_construct o) fs) h))

  mutual
    holds-none : (t : Tree) → any_node (is_enabled_construct o) t ≡ false → holds (is_wrapped_for o) t ≡ false
    holds-none (node k l fs) h =
        or_both (is_wrapped_for o k l fs) (holds_fields (is_wrapped_for o) (closes k) fs) (not-wrapped k l fs h) (holds-none-in (closes k) fs (or_second (is_enabled_construct o k l fs) (any_in_fields (is_enabled_construct o) fs) h))

    holds-none-in : (c : ℕ → Bool) (fs : Fields) → any_in_fields (is_enabled_construct o) fs ≡ false → holds_fields (is_wrapped_for o) c fs ≡ false
    holds-none-in c done h = refl
    holds-none-in c (f then fs) h =
        or_both (not (c zero) && holds_field (is_wrapped_for o) f) (holds_fields (is_wrapped_for o) (λ i. c (suc i)) fs)
        (last-off (not (c zero)) (holds_field (is_wrapped_for o) f) (holds-none-by f (or_first (any_in_field (is_enabled_construct o) f) (any_in_fields (is_enabled_construct o) fs) h)))
        (holds-none-in (λ i. c (suc i)) fs (or_second (any_in_field (is_enabled_construct o) f) (any_in_fields (is_enabled_construct o) fs) h))

    holds-none-by : (f : Field) → any_in_field (is_enabled_construct o) f ≡ false → holds_field (is_wrapped_for o) f ≡ false
    holds-none-by missing h = refl
    holds-none-by (one t) h = holds-none t h
    holds-none-by (many ts) h = holds-none-among ts h
    holds-none-by (statements ts) h = holds-none-among ts h

    holds-none-among : (ts : Trees) → any_in_trees (is_enabled_construct o) ts ≡ false → holds_trees (is_wrapped_for o) ts ≡ false
    holds-none-among empty h = refl
    holds-none-among (t before ts) h =
        or_both (holds (is_wrapped_for o) t) (holds_trees (is_wrapped_for o) ts) (holds-none t (or_first (any_node (is_enabled_construct o) t) (any_in_trees (is_enabled_construct o) ts) h))
        (holds-none-among ts (or_second (any_node (is_enabled_construct o) t) (any_in_trees (is_enabled_construct o) ts) h))

  -- OBJECT RESTS, where they are taken

  own-rest-off : (k : AstType) (l : Label) (fs : Fields) → is_enabled_construct o k l fs ≡ false → (is_some o.es2018.object_rest_spread && is_object_rest k l fs) ≡ false
  own-rest-off k l fs h = (none-of-rows o k l fs h).rest

  rests-in : (fs : Fields) → any_in_fields (is_enabled_construct o) fs ≡ false → (is_some o.es2018.object_rest_spread && any_in_fields is_object_rest fs) ≡ false
  rests-in fs h =
      sym (any-where-in (is_some o.es2018.object_rest_spread) is_object_rest fs) ∙ fewer-in-fields (λ k l gs. is_some o.es2018.object_rest_spread && is_object_rest k l gs) (is_enabled_construct o) own-rest-off fs h

  pub rests-none : (t : Tree) → any_node (is_enabled_construct o) t ≡ false → (is_some o.es2018.object_rest_spread && any_node is_object_rest t) ≡ false
  rests-none t h = sym (any-where (is_some o.es2018.object_rest_spread) is_object_rest t) ∙ fewer-in-tree (λ k l gs. is_some o.es2018.object_rest_spread && is_object_rest k l gs) (is_enabled_construct o) own-rest-off t h

  own-spread-off : (k : AstType) (l : Label) (fs : Fields) → is_enabled_construct o k l fs ≡ false → (is_some o.es2018.object_rest_spread && is_object_spread k l fs) ≡ false
  own-spread-off k l fs h = (none-of-rows o k l fs h).spread

  pub spreads-none : (t : Tree) → any_node (is_enabled_construct o) t ≡ false → (is_some o.es2018.object_rest_spread && any_node is_object_spread t) ≡ false
  spreads-none t h = sym (any-where (is_some o.es2018.object_rest_spread) is_object_spread t) ∙ fewer-in-tree (λ k l gs. is_some o.es2018.object_rest_spread && is_object_spread k l gs) (is_enabled_construct o) own-spread-off t h

  own-using-off : (k : AstType) (l : Label) (fs : Fields) → is_enabled_construct o k l fs ≡ false → (o.es2026.explicit_resource_management && is_using k l fs) ≡ false
  own-using-off k l fs h = (none-of-rows o k l fs h).using

  usings-in : (fs : Fields) → any_in_fields (is_enabled_construct o) fs ≡ false → (o.es2026.explicit_resource_management && any_in_fields is_using fs) ≡ false
  usings-in fs h =
      sym (any-where-in o.es2026.explicit_resource_management is_using fs) ∙ fewer-in-fields (λ k l gs. o.es2026.explicit_resource_management && is_using k l gs) (is_enabled_construct o) own-using-off fs h

  pub using-none : (t : Tree) → any_node (is_enabled_construct o) t ≡ false → (o.es2026.explicit_resource_management && any_node is_using t) ≡ false
  using-none t h = sym (any-where o.es2026.explicit_resource_management is_using t) ∙ fewer-in-tree (λ k l gs. o.es2026.explicit_resource_management && is_using k l gs) (is_enabled_construct o) own-using-off t h

  module _ (ds : List Declared) where
    no-shape : (up : List ℕ) (k : AstType) (l : Label) (fs : Fields) → any_node (is_enabled_construct o) (node k l fs) ≡ false → shape_at o ds up k l fs ≡ None
    no-shape up k l fs h =
        let own = none-of-rows o k l fs (or_first (is_enabled_construct o k l fs) (any_in_fields (is_enabled_construct o) fs) h) in
        let tag = no-tag k l fs (or_second (is_enabled_construct o k l fs) (any_in_fields (is_enabled_construct o) fs) h) in
        let copies = is_some o.es2018.object_rest_spread in
        let inside = rests-in fs (or_second (is_enabled_construct o k l fs) (any_in_fields (is_enabled_construct o) fs) h) in
        let disposes = o.es2026.explicit_resource_management in
        let used = usings-in fs (or_second (is_enabled_construct o k l fs) (any_in_fields (is_enabled_construct o) fs) h) in
        let declared = quiet-where copies (any_in_fields is_object_rest fs) (is_rest_declaration k l fs) inside (declaration-rest k l fs) in
        let copied = in-either copies (is_object_spread k l fs) (is_rest_target (one (node k l fs))) own.spread (no-rest-target (one (node k l fs)) h) in
        let built : is_unbuilt_node o k l fs ≡ false = rw (quiet-where copies (any_in_fields is_object_rest fs) (holds_stray k l fs) inside (holds_stray-none k l fs), own.using) refl in
        rw (
          built,
          with-more o.es2016.exponentiation_operator (is_exponentiation k l fs) (is_some (find ds up (codes "Math"))) own.power,
          neither-bound copies (is_copied k l fs) (is_some (find ds up (codes "babelHelpers"))) (is_rest_declaration k l fs) (binds_helpers ds) copied declared,
          in-both copies (is_object_spread k l fs) (has_uncopied (field_at 0 fs)) own.spread,
          tag,
          quiet-where disposes (any_in_fields is_using fs) (asks_its_name k l fs) used (asks-none k l fs),
          quiet-where disposes (any_in_fields is_using fs) (clashes k fs) used (clashes-none k fs),
        ) refl

pub none-unsupported : (o : EnvOptions) (p : Tree) → has_enabled_construct o p ≡ false → first_unsupported o p ≡ None
none-unsupported o p h =
    let test = is_enabled_construct o in
    none-of o (symbols_of p) test (no-shape o (symbols_of p)) (own-rest-off o)
    (λ on k l fs g. (no-accessor o on k l fs (or_second (test k l fs) (any_in_fields test fs) g), no-arrow o on k l fs (or_first (test k l fs) (any_in_fields test fs) g)))
    (λ k l fs parameter i f g none. last-off _ (holds_field (is_wrapped_for o) f) (holds-none-by o f none))
    (outermost p) program_place 1 p h (λ on. (refl, refl))
