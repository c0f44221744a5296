-- A place that evaluates a node and doesn't write it: which names are bad in the node doesn't depend on what it takes more.
use Rattle.std.proofs.Common.{◌≡◌, ℕ, zero, suc, refl, List, Option}
use Rattle.std.specs.Prelude.{Bool, true, false, ◌||◌}
use Rattle.es_tree.specs.Words.{Text}
use Rattle.es_tree.specs.Names.{first_text as first}
use Rattle.es_tree.specs.Tree.{Tree, node, Fields, done, ◌then◌, Field, missing, one, many, statements, Trees, empty, ◌before◌}
use Rattle.es_tree.specs.declared.ast_type.AstType.{AstType}
use Rattle.es_tree.specs.declared.ast_type.AstType.TheVariants.{UnaryExpression, MemberExpression, ChainExpression, ParenthesizedExpression, Identifier}
use Rattle.es_runs.specs.Alike.{Level, Need, needs, member_needs, unary_need, content_level, object_need, value_and_form, bad_names, is_bad, touches, touches_fields, touches_field, touches_nodes}
use Rattle.es_runs.specs.Alike.Level.{no_evaluation, value_alone, an_operand_of_typeof, whole_reference, a_callee, a_target}
use Rattle.es_runs.specs.Core.{UnaryClass, unary_class, flag, flag_after}
use Rattle.es_runs.specs.Core.UnaryClass.{typeof_class, delete_class, void_class, not_class, asked_class}

-- a node is evaluated, and isn't written
abbrev pub evaluates : Level → Bool
evaluates no_evaluation = false
evaluates a_target = false
evaluates _ = true

-- the levels are the same, or both evaluate
data BothRead : Level → Level → Type 0 where
  same_level : {n : Level} → BothRead n n
  evaluate : {n m : Level} → evaluates n ≡ true → evaluates m ≡ true → BothRead n m

content_read : (n m : Level) → BothRead n m → BothRead (content_level n) (content_level m)
content_read n _ same_level = same_level
content_read n m (evaluate h g) = evaluate (content n h) (content m g)
  where
    content : (n : Level) → evaluates n ≡ true → evaluates (content_level n) ≡ true
    content an_operand_of_typeof h = refl
    content value_alone h = refl
    content whole_reference h = refl
    content a_callee h = refl
    content no_evaluation h = h
    content a_target h = h

member_read : (f g computed marked : Bool) (i : ℕ) → BothRead (member_needs f computed marked i).level (member_needs g computed marked i).level
member_read f g computed marked zero = same_level
member_read f g computed marked (suc i) = same_level

unary_read : (f g : Bool) (c : UnaryClass) → BothRead (unary_need f c).level (unary_need g c).level
unary_read f g typeof_class = same_level
unary_read f g delete_class = same_level
unary_read f g void_class = same_level
unary_read f g not_class = same_level
unary_read f g asked_class = same_level

needs_read : (n m : Need) → BothRead n.level m.level → (k : AstType) (ts : List (Option Text)) (fs : List Bool) (i : ℕ) → BothRead (needs n k ts fs i).level (needs m k ts fs i).level
needs_read n m h UnaryExpression ts fs i = unary_read n.form m.form (unary_class (first ts))
needs_read n m h MemberExpression ts fs i = member_read n.form m.form (flag fs) (flag_after fs) i
needs_read n m h ChainExpression ts fs i = content_read n.level m.level h
needs_read n m h ParenthesizedExpression ts fs i = h
needs_read n m h _ ts fs i = same_level

module _ (hidden frozen : Text → Bool) where
  abbrev bad : Level → Text → Bool
  bad = bad_names hidden frozen

  evaluated : (n : Level) (x : Text) → evaluates n ≡ true → bad n x ≡ hidden x
  evaluated value_alone x h = refl
  evaluated an_operand_of_typeof x h = refl
  evaluated whole_reference x h = refl
  evaluated a_callee x h = refl
  evaluated no_evaluation x h = absurd (cc h)
  evaluated a_target x h = absurd (cc h)

  bad_read : (n m : Level) (x : Text) → BothRead n m → bad n x ≡ bad m x
  bad_read n _ x same_level = refl
  bad_read n m x (evaluate h g) = rw (evaluated n x h, evaluated m x g) refl

  here_read : (n m : Level) → BothRead n m → (k : AstType) (ts : List (Option Text)) → is_bad bad n k ts ≡ is_bad bad m k ts
  here_read n m h Identifier ts = bad_read n m (first ts) h
  here_read n m h _ ts = refl

  mutual
    node_read : (n m : Need) → BothRead n.level m.level → (t : Tree) → touches bad n t ≡ touches bad m t
    node_read n m h (node k l fs) = λ i. here_read n.level m.level h k l.texts i || fields_read (needs n k l.texts l.flags) (needs m k l.texts l.flags) (needs_read n m h k l.texts l.flags) fs i

    fields_read : (c d : ℕ → Need) → ((i : ℕ) → BothRead (c i).level (d i).level) → (fs : Fields) → touches_fields bad c fs ≡ touches_fields bad d fs
    fields_read c d h done = refl
    fields_read c d h (f then fs) = λ i. field_read (c zero) (d zero) (h zero) f i || fields_read (λ j. c (suc j)) (λ j. d (suc j)) (λ j. h (suc j)) fs i

    field_read : (n m : Need) → BothRead n.level m.level → (f : Field) → touches_field bad n f ≡ touches_field bad m f
    field_read n m h missing = refl
    field_read n m h (one t) = node_read n m h t
    field_read n m h (many ts) = nodes_read n m h ts
    field_read n m h (statements ts) = nodes_read n m h ts

    nodes_read : (n m : Need) → BothRead n.level m.level → (ts : Trees) → touches_nodes bad n ts ≡ touches_nodes bad m ts
    nodes_read n m h empty = refl
    nodes_read n m h (t before ts) = λ i. node_read n m h t i || nodes_read n m h ts i

  -- at one place as at the other
  pub read_as : (n m : Need) → evaluates n.level ≡ true → evaluates m.level ≡ true → (t : Tree) → touches bad n t ≡ false → touches bad m t ≡ false
  read_as n m h g t e = let same : touches bad n t ≡ touches bad m t = node_read n m (evaluate h g) t in rw (← same) e

  -- the object of a member, marked or not, as where its value is taken
  pub object_free : (form marked : Bool) (o : Tree) → touches bad (object_need form marked) o ≡ false → touches bad (value_and_form form) o ≡ false
  object_free form true o h = read_as (object_need form true) (value_and_form form) refl refl o h
  object_free form false o h = h
