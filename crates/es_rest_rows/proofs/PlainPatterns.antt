-- A plain pattern has a rest, or holds a pattern that does.
use Rattle.std.proofs.Common.{◌≡◌, refl, sym, ap, true≢false}
use Rattle.std.proofs.lemmas.Bool.{and_parts}
use Rattle.std.specs.Prelude.{Bool, true, false, ◌||◌, not}
use Rattle.es_tree.specs.Constructs.{any_kind, is_rest}
use Rattle.es_tree.specs.Names.{has_computed}
use Rattle.es_tree.specs.Tree.{Tree, node, Label, Fields, done, ◌then◌, one, many, Trees, empty, ◌before◌, kind_of}
use Rattle.es_tree.specs.declared.ast_type.AstType.TheVariants.{AssignmentPattern, ObjectPattern, PatternProperty, RestElement}
use Rattle.es_steps.specs.Patterns.{first_holds_rest, holds_rest, some_holds_rest}
use Rattle.es_valid_rests.specs.RestRules.{is_binding_kind}
use Rattle.es_rest_shapes.specs.RestShapes.{are_plain_members, are_plain_parts, bears_among, bears_first, bears_rest, is_named_rest, is_plain_first, is_plain_key, is_plain_pattern, is_plain_property, is_plain_target, is_plain_value}

or-more : (a b c : Bool) → (b ≡ true → c ≡ true) → (a || b) ≡ true → (a || c) ≡ true
or-more true b c f h = refl
or-more false b c f h = f h

or-both-more : (a b c d : Bool) → (a ≡ true → b ≡ true) → (c ≡ true → d ≡ true) → (a || c) ≡ true → (b || d) ≡ true
or-both-more true true c d f g h = refl
or-both-more true false c d f g h = absurd (true≢false (sym (f refl)))
or-both-more false true c d f g h = refl
or-both-more false false c d f g h = g h

not-both : (v : Bool) → not v ≡ true → v ≡ true → ⊥
not-both true h e = true≢false (sym h)
not-both false h e = true≢false (sym e)

pub rest-bears-none : (t : Tree) → is_named_rest t ≡ true → bears_rest t ≡ false
rest-bears-none (node RestElement l fs) h = refl
rest-bears-none (node _ l fs) h = absurd (true≢false (sym h))

-- the last member bears a pattern only where it is a property
last-of : (p r b v : Bool) → (r ≡ true → b ≡ false) → (p ≡ true → b ≡ true → v ≡ true) → (p || r) ≡ true → b ≡ true → v ≡ true
last-of true r b v f g h e = g refl e
last-of false r b v f g h e = absurd (not-both b (ap not (f h)) e)

mutual
  pub value-holds : (v : Tree) → is_plain_value v ≡ true → bears_rest v ≡ true → holds_rest v ≡ true
  value-holds (node ObjectPattern l fs) h b = parts-hold l fs h b
  value-holds (node AssignmentPattern l fs) h b = first-holds fs h b
  value-holds v h b = absurd (not-both (bears_rest v) h b)

  first-holds : (fs : Fields) → is_plain_first fs ≡ true → bears_first fs ≡ true → first_holds_rest fs ≡ true
  first-holds (one p then one e then done) h b = target-holds p h b
  first-holds _ h b = absurd (true≢false (sym h))

  target-holds : (t : Tree) → is_plain_target t ≡ true → bears_rest t ≡ true → holds_rest t ≡ true
  target-holds (node ObjectPattern l fs) h b = parts-hold l fs h b
  target-holds t h b = absurd (not-both (bears_rest t) h b)

  parts-hold : (l : Label) (fs : Fields) → are_plain_parts fs ≡ true → bears_rest (node ObjectPattern l fs) ≡ true → holds_rest (node ObjectPattern l fs) ≡ true
  parts-hold l (many ps then done) h b = or-more (any_kind is_rest ps) (bears_among ps) (some_holds_rest ps) (members-hold ps h) b
  parts-hold l _ h b = absurd (true≢false (sym h))

  property-holds : (t : Tree) → is_plain_property t ≡ true → bears_rest t ≡ true → holds_rest t ≡ true
  property-holds (node PatternProperty l (one k then one v then done)) h b = value-holds v (and_parts (is_plain_key (has_computed PatternProperty l.flags) k) (is_plain_value v) h).1 b
  property-holds _ h b = absurd (true≢false (sym h))

  members-hold : (ps : Trees) → are_plain_members ps ≡ true → bears_among ps ≡ true → some_holds_rest ps ≡ true
  members-hold empty h b = b
  members-hold (t before empty) h b = or-both-more (bears_rest t) (holds_rest t) false false (last-of (is_plain_property t) (is_named_rest t) (bears_rest t) (holds_rest t) (rest-bears-none t) (property-holds t) h) (λ e. e) b
  members-hold (t before u before ts) h b =
      let d = and_parts (is_plain_property t) (are_plain_members (u before ts)) h in
      or-both-more (bears_rest t) (holds_rest t) (bears_among (u before ts)) (some_holds_rest (u before ts)) (property-holds t d.0) (members-hold (u before ts) d.1) b

pub plain-bears : (p : Tree) → is_plain_pattern p ≡ true → bears_rest p ≡ true
plain-bears (node ObjectPattern l fs) h = (and_parts (bears_rest (node ObjectPattern l fs)) (are_plain_parts fs) h).0
plain-bears _ h = absurd (true≢false (sym h))

pub plain-holds : (p : Tree) → is_plain_pattern p ≡ true → holds_rest p ≡ true
plain-holds (node ObjectPattern l fs) h = let d = and_parts (bears_rest (node ObjectPattern l fs)) (are_plain_parts fs) h in parts-hold l fs d.1 d.0
plain-holds _ h = absurd (true≢false (sym h))

pub plain-binds : (p : Tree) → is_plain_pattern p ≡ true → is_binding_kind (kind_of p) ≡ true
plain-binds (node ObjectPattern l fs) h = refl
plain-binds _ h = absurd (true≢false (sym h))
