-- Object literals with a spread (ECMA-262, 13.2.5) whose properties can't be defined in other literals and copied: one sets the literal's
-- prototype, one uses `super`, which asks the literal that its method stands in, or a getter and a setter stand on two sides of a spread.
use Rattle.std.specs.Prelude.{Bool, true, false, ◌&&◌, ◌||◌, not, bytes_eq, codes, if◌then◌else◌}
use Rattle.es_tree.specs.Constructs.{field_at, is_object_spread, is_spread}
use Rattle.es_tree.specs.Names.{first_text, flag_at}
use Rattle.es_tree.specs.Tree.{Tree, node, Label, Fields, done, ◌then◌, Field, missing, one, many, statements, Trees, empty, ◌before◌, kind_of}
use Rattle.es_tree.specs.declared.ast_type.AstType.{AstType}
use Rattle.es_tree.specs.declared.ast_type.AstType.TheVariants.{FunctionDeclaration, FunctionExpression, Identifier, ObjectProperty, PropertyDefinition, StaticBlock, StringLiteral, Super}
use Rattle.es_unsupported.specs.declared.spread_literals.Accessors.{Accessors}

-- whether a node of a list passes a test
abbrev pub any_among : (Tree → Bool) → Trees → Bool
any_among p empty = false
any_among p (t before ts) = p t || any_among p ts

-- THE PROTOTYPE (B.3.1): `__proto__: v`, neither computed nor short nor a method

abbrev pub is_prototype_name : Tree → Bool
is_prototype_name (node Identifier l fs) = bytes_eq (first_text l.texts) (codes "__proto__")
is_prototype_name (node StringLiteral l fs) = bytes_eq (first_text l.texts) (codes "__proto__")
is_prototype_name _ = false

abbrev pub is_prototype_key : Field → Bool
is_prototype_key (one t) = is_prototype_name t
is_prototype_key _ = false

abbrev pub sets_prototype : Tree → Bool
sets_prototype (node ObjectProperty l fs) = bytes_eq (first_text l.texts) (codes "init") && not (flag_at 0 l.flags || flag_at 1 l.flags || flag_at 2 l.flags) && is_prototype_key (field_at 0 fs)
sets_prototype _ = false

-- SUPER (13.3.7) of the method around: not that of a function, a class field or a static block further inside

abbrev mutual
  pub holds_super : Tree → Bool
  holds_super (node Super l fs) = true
  holds_super (node FunctionDeclaration l fs) = false
  holds_super (node FunctionExpression l fs) = false
  holds_super (node StaticBlock l fs) = false
  holds_super (node PropertyDefinition l fs) = holds_super_in_key fs
  holds_super (node k l fs) = holds_super_in fs

  pub holds_super_in_key : Fields → Bool
  holds_super_in_key done = false
  holds_super_in_key (f then fs) = holds_super_by f

  pub holds_super_in : Fields → Bool
  holds_super_in done = false
  holds_super_in (f then fs) = holds_super_by f || holds_super_in fs

  pub holds_super_by : Field → Bool
  holds_super_by missing = false
  holds_super_by (one t) = holds_super t
  holds_super_by (many ts) = holds_super_among ts
  holds_super_by (statements ts) = holds_super_among ts

  pub holds_super_among : Trees → Bool
  holds_super_among empty = false
  holds_super_among (t before ts) = holds_super t || holds_super_among ts

-- the function of a method or an accessor: of a property that is no method nor accessor it has no `super` of its own
abbrev pub is_method : Label → Bool
is_method l = flag_at 0 l.flags || not (bytes_eq (first_text l.texts) (codes "init"))

abbrev pub has_super : Field → Bool
has_super (one (node FunctionExpression l fs)) = holds_super_in fs
has_super _ = false

abbrev pub uses_super : Tree → Bool
uses_super (node ObjectProperty l fs) = is_method l && has_super (field_at 1 fs)
uses_super _ = false

-- ACCESSORS (13.2.5.5): those of one name share a property, which a copy of one half would replace. Their names aren't compared, since
-- a computed one is known to the run alone.

abbrev pub is_getter : Tree → Bool
is_getter (node ObjectProperty l fs) = bytes_eq (first_text l.texts) (codes "get")
is_getter _ = false

abbrev pub is_setter : Tree → Bool
is_setter (node ObjectProperty l fs) = bytes_eq (first_text l.texts) (codes "set")
is_setter _ = false

-- with this property: whether a getter, and whether a setter stand so far
abbrev pub with_property : Tree → Accessors → Accessors
with_property t a = record { getter = a.getter || is_getter t; setter = a.setter || is_setter t }

-- whether a property is the half of which the other stands earlier
abbrev pub completes : Accessors → Tree → Bool
completes earlier t = (earlier.setter && is_getter t) || (earlier.getter && is_setter t)

-- Whether a getter and a setter are parted by a spread in these properties, where those before the last spread, and all so far, have such
-- halves.
abbrev pub are_parted : Accessors → Accessors → Trees → Bool
are_parted earlier so_far empty = false
are_parted earlier so_far (t before ts) = completes earlier t || are_parted (if is_spread (kind_of t) then so_far else earlier) (with_property t so_far) ts

abbrev pub no_accessor : Accessors
no_accessor = record { getter = false; setter = false }

-- THE LITERAL

abbrev pub has_uncopied : Field → Bool
has_uncopied (many ts) = any_among sets_prototype ts || any_among uses_super ts || are_parted no_accessor no_accessor ts
has_uncopied _ = false

-- a literal with a spread and such properties
abbrev pub is_uncopied : AstType → Label → Fields → Bool
is_uncopied k l fs = is_object_spread k l fs && has_uncopied (field_at 0 fs)
