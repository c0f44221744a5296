-- What a property leaves out whose key isn't computed, or is a literal or a template without expressions: the key's text.
use Rattle.std.proofs.Common.{◌≡◌, ◌∙◌, refl, ap, []}
use Rattle.std.proofs.lemmas.Bool.{false≢true}
use Rattle.std.specs.Prelude.{Bool, true, false, Some, None, codes}
use Rattle.es_tree.specs.Words.{Text}
use Rattle.es_tree.specs.Names.{first_text, flag_at}
use Rattle.es_tree.specs.Tree.{Tree, node, Label, Fields, done, ◌then◌, many, empty, ◌before◌, kind_of}
use Rattle.es_tree.specs.declared.ast_type.AstType.{AstType}
use Rattle.es_tree.specs.declared.ast_type.AstType.TheVariants.{BigIntLiteral, BooleanLiteral, Identifier, NullLiteral, NumericLiteral, StringLiteral, TemplateElement, TemplateLiteral}
use Rattle.es_runs.specs.Core.{Binding, World, flag, name}
use Rattle.es_runs.specs.Core.Binding.{free, changeable, constant, silent}
use Rattle.es_runs.specs.Core.Silent.{helper_name, keys_name}
use Rattle.es_statement_runs.specs.Helpers.{Supply}
use Rattle.es_statement_runs.specs.Helpers.Supply.{no_helpers, by_global, by_import, by_require, spread_by_global}
use Rattle.es_statement_runs.specs.Kinds.{boolean_text, second_text, sense}
use Rattle.es_statement_runs.specs.Laws.{is_key, key_text}
use Rattle.es_statement_runs.specs.Places.{placed_at}
use Rattle.es_statement_runs.specs.Senses.{More, excluded_text, literal_key, said_in, said_of, static_text}
use Rattle.es_statement_runs.specs.Senses.More.{literal_text}
use Rattle.es_split_runs.specs.Laws.{LeavesOut}

-- a name says no text
said_text : (b : Binding) → literal_key (said_of b) ≡ None
said_text free = refl
said_text changeable = refl
said_text constant = refl
said_text (silent (helper_name h)) = refl
said_text (silent (keys_name vs)) = refl

pub name_said : (u : Supply) (b : Binding) → literal_key (said_in u b) ≡ None
name_said no_helpers b = refl
name_said spread_by_global b = refl
name_said by_global b = said_text b
name_said (by_import m) b = said_text b
name_said (by_require m) b = said_text b

word_text : (m : More) (x : Text) → literal_key m ≡ None → static_text (record { core = name x; more = m }) ≡ x
word_text (literal_text t) x h = absurd (cc h)
word_text _ x h = refl

key_said : (u : Supply) (w : World) (k : Tree) → is_key (kind_of k) ≡ true → static_text (sense (placed_at u w [] []) k) ≡ key_text k
key_said u w (node Identifier l fs) h = word_text (said_in u (w.scope (first_text l.texts))) (first_text l.texts) (name_said u (w.scope (first_text l.texts)))
key_said u w (node StringLiteral l fs) h = refl
key_said u w (node NumericLiteral l fs) h = refl
key_said u w (node BigIntLiteral l fs) h = refl
key_said u w (node _ l fs) h = absurd (false≢true h)

-- a key that isn't computed
pub static_leaves : (u : Supply) (l : Label) (k : Tree) → flag_at 1 l.flags ≡ false → is_key (kind_of k) ≡ true → LeavesOut u (Some (key_text k)) l k
static_leaves u l k f h w = ap (λ (c : Bool). excluded_text c (sense (placed_at u w [] []) k)) f ∙ ap (λ (t : Text). Some t) (key_said u w k h)

abbrev pub is_literal : AstType → Bool
is_literal NullLiteral = true
is_literal BooleanLiteral = true
is_literal StringLiteral = true
is_literal NumericLiteral = true
is_literal BigIntLiteral = true
is_literal _ = false

-- the text of a literal as a key (7.1.19)
abbrev pub literal_key_text : Tree → Text
literal_key_text (node NullLiteral l fs) = codes "null"
literal_key_text (node BooleanLiteral l fs) = boolean_text (flag l.flags)
literal_key_text k = key_text k

literal_said : (u : Supply) (w : World) (k : Tree) → is_literal (kind_of k) ≡ true → literal_key (sense (placed_at u w [] []) k).more ≡ Some (literal_key_text k)
literal_said u w (node NullLiteral l fs) h = refl
literal_said u w (node BooleanLiteral l fs) h = refl
literal_said u w (node StringLiteral l fs) h = refl
literal_said u w (node NumericLiteral l fs) h = refl
literal_said u w (node BigIntLiteral l fs) h = refl
literal_said u w (node _ l fs) h = absurd (false≢true h)

-- a literal
pub literal_leaves : (u : Supply) (l : Label) (k : Tree) → flag_at 1 l.flags ≡ true → is_literal (kind_of k) ≡ true → LeavesOut u (Some (literal_key_text k)) l k
literal_leaves u l k f h w = ap (λ (c : Bool). excluded_text c (sense (placed_at u w [] []) k)) f ∙ literal_said u w k h

-- a template without expressions, of an element that gives a text
pub whole_template_leaves : (u : Supply) (l m n : Label) (fs : Fields) (t : Text) → flag_at 1 l.flags ≡ true → second_text n.texts ≡ Some t → LeavesOut u (Some t) l (node TemplateLiteral m (many (node TemplateElement n fs before empty) then many empty then done))
whole_template_leaves u l m n fs t f h w = ap (λ (c : Bool). excluded_text c (sense (placed_at u w [] []) (node TemplateLiteral m (many (node TemplateElement n fs before empty) then many empty then done)))) f ∙ h
