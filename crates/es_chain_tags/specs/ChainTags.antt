-- Tagged templates whose tag is an optional chain, maybe in parentheses (ECMA-262, 13.3.9 and 13.3.11): `` (a?.b)`t` ``. Without parentheses that is an
-- early error (13.3.1.1); with them the tag's object is the receiver.
use Rattle.std.specs.Prelude.{◌≡◌, Bool, false, true}
use Rattle.es_tree.specs.Constructs.{field_at}
use Rattle.es_tree.specs.Parens.{without_parens}
use Rattle.es_tree.specs.Tree.{Tree, node, Label, Fields, done, ◌then◌, Field, one, kind_of}
use Rattle.es_tree.specs.declared.ast_type.AstType.{AstType}
use Rattle.es_tree.specs.declared.ast_type.AstType.TheVariants.{ChainExpression, MemberExpression, ParenthesizedExpression, TaggedTemplateExpression}
use Rattle.es_runs.specs.OptionalChaining.{is_chain_kind}

-- whether the field is an optional chain, maybe in parentheses
abbrev pub is_chain_below : Field → Bool
is_chain_below (one t) = is_chain_kind (kind_of (without_parens t))
is_chain_below _ = false

-- a tagged template whose tag is one
abbrev pub has_chain_tag : AstType → Label → Fields → Bool
has_chain_tag TaggedTemplateExpression l fs = is_chain_below (field_at 0 fs)
has_chain_tag _ l fs = false

-- Of these tags the first two are chains: `` a?.b`t` ``, `` (a?.b)`t` `` and `` (a?.b).c`t` ``.
pub record TagsAre (m n o : Label) (fs gs hs : Fields) : Type 0 where
  pub chain : has_chain_tag TaggedTemplateExpression m (one (node ChainExpression n fs) then gs) ≡ true
  pub in_parentheses : has_chain_tag TaggedTemplateExpression m (one (node ParenthesizedExpression o (one (node ChainExpression n fs) then hs)) then gs) ≡ true
  pub member : has_chain_tag TaggedTemplateExpression m (one (node MemberExpression o (one (node ChainExpression n fs) then hs)) then gs) ≡ false

abbrev pub LawChainTags : Type 0
LawChainTags = (m n o : Label) (fs gs hs : Fields) → TagsAre m n o fs gs hs
