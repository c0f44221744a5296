-- Whether a node is a construct that options ask to lower is told by the kinds of what stands in its fields, but for calls and sequences; so it stays where
-- these stay.
use Rattle.std.proofs.Common.{◌≡◌, ℕ, refl, ap}
use Rattle.std.specs.Prelude.{Bool, ◌&&◌, ◌||◌, not, bytes_eq, codes, is_some}
use Rattle.es_tree.specs.Constructs.{any_kind, field_at, has_member, is_arrow, is_big_int, is_chain, is_child, is_enabled_construct, is_exponentiation, is_logical_assignment, is_namespace_export, is_nullish_coalescing, is_object_rest, is_object_spread, is_optional_catch, is_private_target, is_rest, is_spread, is_using, stands}
use Rattle.es_tree.specs.Names.{first_text}
use Rattle.es_tree.specs.Tree.{Tree, Label, Fields, Field, one, many, statements, Trees, kind_of}
use Rattle.es_tree.specs.declared.ast_type.AstType.{AstType}
use Rattle.es_tree.specs.declared.ast_type.AstType.TheVariants.{ArrowFunctionExpression, AssignmentExpression, BinaryExpression, CallExpression, CatchClause, ChainExpression, ExportAllDeclaration, LogicalExpression, ObjectExpression, ObjectPattern, ObjectTarget, SequenceExpression, VariableDeclaration}
use Rattle.es_tree.specs.declared.options.EnvOptions.{EnvOptions}

-- tests of kinds that don't tell a call from a sequence
abbrev pub Blind : (AstType → Bool) → Type 0
Blind p = p CallExpression ≡ p SequenceExpression

pub record TreeAlike (t u : Tree) : Type 0 where
  pub kinds : (p : AstType → Bool) → Blind p → p (kind_of u) ≡ p (kind_of t)
  pub target : is_private_target (one u) ≡ is_private_target (one t)

pub record FieldAlike (f g : Field) : Type 0 where
  pub kinds : (p : AstType → Bool) → Blind p → is_child p g ≡ is_child p f
  pub members : (p : AstType → Bool) → Blind p → has_member p g ≡ has_member p f
  pub standing : stands g ≡ stands f
  pub target : is_private_target g ≡ is_private_target f

abbrev pub FieldsAlike : Fields → Fields → Type 0
FieldsAlike fs gs = (i : ℕ) → FieldAlike (field_at i fs) (field_at i gs)

pub field-alike : (f : Field) → FieldAlike f f
field-alike f = record { kinds = λ p e. refl; members = λ p e. refl; standing = refl; target = refl }

pub one-alike : (t u : Tree) → TreeAlike t u → FieldAlike (one t) (one u)
one-alike t u h = record { kinds = h.kinds; members = λ p e. refl; standing = refl; target = h.target }

pub many-alike : (ts us : Trees) → ((p : AstType → Bool) → Blind p → any_kind p us ≡ any_kind p ts) → FieldAlike (many ts) (many us)
many-alike ts us h = record { kinds = λ p e. refl; members = h; standing = refl; target = refl }

pub list-alike : (ts us : Trees) → FieldAlike (statements ts) (statements us)
list-alike ts us = record { kinds = λ p e. refl; members = λ p e. refl; standing = refl; target = refl }

-- EACH TEST of a node

module _ (l : Label) (fs gs : Fields) (h : FieldsAlike fs gs) where
  power-same : (k : AstType) → is_exponentiation k l gs ≡ is_exponentiation k l fs
  power-same BinaryExpression = λ i. bytes_eq (first_text l.texts) (codes "**") && not ((h 0).kinds is_big_int refl i) && not ((h 1).kinds is_big_int refl i)
  power-same AssignmentExpression = λ i. bytes_eq (first_text l.texts) (codes "**=") && not ((h 1).kinds is_big_int refl i)
  power-same k = refl

  coalescing-same : (k : AstType) → is_nullish_coalescing k l gs ≡ is_nullish_coalescing k l fs
  coalescing-same LogicalExpression = refl
  coalescing-same k = refl

  chain-same : (k : AstType) → is_chain k l gs ≡ is_chain k l fs
  chain-same ChainExpression = refl
  chain-same k = refl

  assignment-same : (k : AstType) → is_logical_assignment k l gs ≡ is_logical_assignment k l fs
  assignment-same AssignmentExpression = λ i.
      (bytes_eq (first_text l.texts) (codes "||=") || bytes_eq (first_text l.texts) (codes "&&=") || bytes_eq (first_text l.texts) (codes "??="))
      && not ((h 0).target i)
  assignment-same k = refl

  catch-same : (k : AstType) → is_optional_catch k l gs ≡ is_optional_catch k l fs
  catch-same CatchClause = ap not (h 0).standing
  catch-same k = refl

  export-same : (k : AstType) → is_namespace_export k l gs ≡ is_namespace_export k l fs
  export-same ExportAllDeclaration = (h 0).standing
  export-same k = refl

  spread-same : (k : AstType) → is_object_spread k l gs ≡ is_object_spread k l fs
  spread-same ObjectExpression = (h 0).members is_spread refl
  spread-same k = refl

  rest-same : (k : AstType) → is_object_rest k l gs ≡ is_object_rest k l fs
  rest-same ObjectPattern = (h 0).members is_rest refl
  rest-same ObjectTarget = (h 0).members is_rest refl
  rest-same k = refl

  using-same : (k : AstType) → is_using k l gs ≡ is_using k l fs
  using-same VariableDeclaration = refl
  using-same k = refl

  arrow-same : (k : AstType) → is_arrow k l gs ≡ is_arrow k l fs
  arrow-same ArrowFunctionExpression = refl
  arrow-same k = refl

  pub construct-same : (o : EnvOptions) (k : AstType) → is_enabled_construct o k l gs ≡ is_enabled_construct o k l fs
  construct-same o k = λ i.
      ((o.es2016.exponentiation_operator && power-same k i)
      || (o.es2020.nullish_coalescing_operator && coalescing-same k i)
      || (o.es2020.optional_chaining && chain-same k i)
      || (o.es2021.logical_assignment_operators && assignment-same k i)
      || (is_some o.es2018.object_rest_spread && (spread-same k i || rest-same k i))
      || (is_some o.es2015.arrow_function && arrow-same k i))
      || ((o.es2019.optional_catch_binding && catch-same k i)
      || (o.es2020.export_namespace_from && export-same k i)
      || (o.es2026.explicit_resource_management && using-same k i))
