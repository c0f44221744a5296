-- Whether a literal can be copied looks at no mark and no id.
use Rattle.std.proofs.Common.{◌≡◌, ◌∙◌, Bool, ◌&&◌, ◌||◌, not, bytes_eq, codes, if◌then◌else◌, refl, ap}
use Rattle.es_tree.specs.Bare.{bare, bare_field, bare_fields, bare_label, bare_trees}
use Rattle.es_tree.specs.Constructs.{field_at, is_spread}
use Rattle.es_tree.specs.Names.{first_text, flag_at}
use Rattle.es_tree.specs.Tree.{Tree, node, Label, Fields, done, ◌then◌, Field, missing, one, many, statements, Trees, empty, ◌before◌, kind_of}
use Rattle.es_tree.specs.declared.ast_type.AstType.{AstType}
use Rattle.es_tree.specs.declared.ast_type.AstType.TheVariants.{FunctionDeclaration, FunctionExpression, Identifier, ObjectProperty, PropertyDefinition, StaticBlock, StringLiteral, Super}
use Rattle.es_unsupported.specs.SpreadLiterals.{any_among, are_parted, completes, has_super, has_uncopied, holds_super, holds_super_among, holds_super_by, holds_super_in, holds_super_in_key, is_getter, is_method, is_prototype_key, is_prototype_name, is_setter, is_uncopied, no_accessor, sets_prototype, uses_super, with_property}
use Rattle.es_unsupported.specs.declared.spread_literals.Accessors.{Accessors}
use Rattle.es_unsupported.proofs.BareNodes.{field_at-bare, kind-bare, object-spread-bare}

-- THE PROTOTYPE

prototype-name-bare : (t : Tree) → is_prototype_name (bare t) ≡ is_prototype_name t
prototype-name-bare (node Identifier l fs) = refl
prototype-name-bare (node StringLiteral l fs) = refl
prototype-name-bare (node _ l fs) = refl

prototype-key-bare : (f : Field) → is_prototype_key (bare_field f) ≡ is_prototype_key f
prototype-key-bare missing = refl
prototype-key-bare (one t) = prototype-name-bare t
prototype-key-bare (many ts) = refl
prototype-key-bare (statements ts) = refl

sets-bare : (t : Tree) → sets_prototype (bare t) ≡ sets_prototype t
sets-bare (node ObjectProperty l fs) =
    ap (λ b. bytes_eq (first_text l.texts) (codes "init") && not (flag_at 0 l.flags || flag_at 1 l.flags || flag_at 2 l.flags) && b)
    (ap is_prototype_key (field_at-bare 0 fs) ∙ prototype-key-bare (field_at 0 fs))
sets-bare (node _ l fs) = refl

-- SUPER

mutual
  holds-bare : (t : Tree) → holds_super (bare t) ≡ holds_super t
  holds-bare (node Super l fs) = refl
  holds-bare (node FunctionDeclaration l fs) = refl
  holds-bare (node FunctionExpression l fs) = refl
  holds-bare (node StaticBlock l fs) = refl
  holds-bare (node PropertyDefinition l fs) = holds-bare-key fs
  holds-bare (node _ l fs) = holds-bare-in fs

  holds-bare-key : (fs : Fields) → holds_super_in_key (bare_fields fs) ≡ holds_super_in_key fs
  holds-bare-key done = refl
  holds-bare-key (f then fs) = holds-bare-by f

  holds-bare-in : (fs : Fields) → holds_super_in (bare_fields fs) ≡ holds_super_in fs
  holds-bare-in done = refl
  holds-bare-in (f then fs) = λ i. holds-bare-by f i || holds-bare-in fs i

  holds-bare-by : (f : Field) → holds_super_by (bare_field f) ≡ holds_super_by f
  holds-bare-by missing = refl
  holds-bare-by (one t) = holds-bare t
  holds-bare-by (many ts) = holds-bare-among ts
  holds-bare-by (statements ts) = holds-bare-among ts

  holds-bare-among : (ts : Trees) → holds_super_among (bare_trees ts) ≡ holds_super_among ts
  holds-bare-among empty = refl
  holds-bare-among (t before ts) = λ i. holds-bare t i || holds-bare-among ts i

has-bare : (f : Field) → has_super (bare_field f) ≡ has_super f
has-bare missing = refl
has-bare (one (node FunctionExpression l fs)) = holds-bare-in fs
has-bare (one (node _ l fs)) = refl
has-bare (many ts) = refl
has-bare (statements ts) = refl

uses-bare : (t : Tree) → uses_super (bare t) ≡ uses_super t
uses-bare (node ObjectProperty l fs) = ap (λ b. is_method l && b) (ap has_super (field_at-bare 1 fs) ∙ has-bare (field_at 1 fs))
uses-bare (node _ l fs) = refl

any-bare : (p : Tree → Bool) → ((t : Tree) → p (bare t) ≡ p t) → (ts : Trees) → any_among p (bare_trees ts) ≡ any_among p ts
any-bare p same empty = refl
any-bare p same (t before ts) = λ i. same t i || any-bare p same ts i

-- ACCESSORS

getter-bare : (t : Tree) → is_getter (bare t) ≡ is_getter t
getter-bare (node ObjectProperty l fs) = refl
getter-bare (node _ l fs) = refl

setter-bare : (t : Tree) → is_setter (bare t) ≡ is_setter t
setter-bare (node ObjectProperty l fs) = refl
setter-bare (node _ l fs) = refl

parted-bare : (a b : Accessors) (ts : Trees) → are_parted a b (bare_trees ts) ≡ are_parted a b ts
parted-bare a b empty = refl
parted-bare a b (t before ts) =
    (λ i. ((a.setter && getter-bare t i) || (a.getter && setter-bare t i))
    || are_parted (if is_spread (kind-bare t i) then b else a) (record { getter = b.getter || getter-bare t i; setter = b.setter || setter-bare t i }) (bare_trees ts))
    ∙ ap (λ c. completes a t || c) (parted-bare (if is_spread (kind_of t) then b else a) (with_property t b) ts)

-- THE LITERAL

uncopied-bare : (f : Field) → has_uncopied (bare_field f) ≡ has_uncopied f
uncopied-bare missing = refl
uncopied-bare (one t) = refl
uncopied-bare (many ts) = λ i. any-bare sets_prototype sets-bare ts i || any-bare uses_super uses-bare ts i || parted-bare no_accessor no_accessor ts i
uncopied-bare (statements ts) = refl

pub literal-bare : (k : AstType) (l : Label) (fs : Fields) → is_uncopied k (bare_label l) (bare_fields fs) ≡ is_uncopied k l fs
literal-bare k l fs = λ i. object-spread-bare k l fs i && (ap has_uncopied (field_at-bare 0 fs) ∙ uncopied-bare (field_at 0 fs)) i
