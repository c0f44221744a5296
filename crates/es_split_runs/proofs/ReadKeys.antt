-- What a property leaves out whose key is an expression that is no literal and no template without expressions: the key's value.
use Rattle.std.proofs.Common.{◌≡◌, ◌∙◌, refl, ap, List, [], ◌∷◌}
use Rattle.std.proofs.lemmas.Bool.{false≢true}
use Rattle.std.specs.Prelude.{Bool, true, false, ◌&&◌, Option, Some, None, codes, if◌then◌else◌}
use Rattle.es_tree.specs.Words.{Text}
use Rattle.es_tree.specs.Names.{first_text, flag_at}
use Rattle.es_tree.specs.Tree.{Tree, node, Label, Fields, done, ◌then◌, many, Trees, ◌before◌, kind_of}
use Rattle.es_tree.specs.declared.ast_type.AstType.{AstType}
use Rattle.es_tree.specs.declared.ast_type.AstType.TheVariants.{ArrayExpression, AssignmentExpression, BinaryExpression, CallExpression, ChainExpression, ConditionalExpression, Identifier, LogicalExpression, MemberExpression, MetaProperty, NewExpression, ObjectExpression, ParenthesizedExpression, RegExpLiteral, SequenceExpression, TaggedTemplateExpression, TemplateLiteral, ThisExpression, UnaryExpression, UpdateExpression}
use Rattle.es_runs.specs.Core.{Form, Meaning, Reference, World, flag, flag_after, meaning_of}
use Rattle.es_runs.specs.Core.Form.{word}
use Rattle.es_runs.specs.Machine.{M, Values}
use Rattle.es_statement_runs.specs.Calls.{assignment_by, call_by, call_sense, destructuring_sense, extends_sense, helper_member, helper_sense, is_bare, is_global, is_stack_key, mapped, maps_keys, member_by, member_sense, named_member, required_or, said_of_member, spread2_sense, using_sense, without_sense}
use Rattle.es_statement_runs.specs.Helpers.{Supply, is_helper_text}
use Rattle.es_statement_runs.specs.Helpers.Supply.{no_helpers, by_global, by_import, by_require, spread_by_global}
use Rattle.es_statement_runs.specs.Kinds.{portions, scope_by, sense, sense_of, senses}
use Rattle.es_statement_runs.specs.Names.{is_word}
use Rattle.es_statement_runs.specs.Places.{placed_at}
use Rattle.es_statement_runs.specs.Senses.{More, Place, Portion, Sense, core_parts, excluded_text, keys_where, literal_key, plain_sense, text_alone}
use Rattle.es_statement_runs.specs.Senses.More.{aims, helper_call, keys_of, maps, stack_member}
use Rattle.es_statement_runs.specs.Senses.Portion.{alone, rows}
use Rattle.es_statement_runs.specs.Stacks.{Scope}
use Rattle.es_split_runs.specs.Laws.{LeavesOut}
use Rattle.es_split_runs.proofs.KeyTexts.{name_said}

-- says no text of a key
abbrev NoText : More → Type 0
NoText m = literal_key m ≡ None

either : (b : Bool) (e d : More) → NoText e → NoText d → NoText (if b then e else d)
either true e d h g = h
either false e d h g = g

either_sense : (b : Bool) (e d : Sense) → NoText e.more → NoText d.more → NoText (if b then e else d).more
either_sense true e d h g = h
either_sense false e d h g = g

module _ (w : World) where
  spread2_says : (es : List Sense) → NoText (spread2_sense w es).more
  spread2_says [] = refl
  spread2_says (a ∷ es) = refl

  extends_says : (es : List Sense) → NoText (extends_sense w es).more
  extends_says (a ∷ e ∷ []) = either_sense (is_bare a.more) _ _ refl refl
  extends_says _ = refl

  destructuring_says : (es : List Sense) → NoText (destructuring_sense w es).more
  destructuring_says (e ∷ []) = refl
  destructuring_says _ = refl

  without_says : (es : List Sense) → NoText (without_sense w es).more
  without_says (e ∷ k ∷ []) = refl
  without_says _ = refl

  using_says : (es : List Sense) → NoText (using_sense es).more
  using_says [] = refl
  using_says _ = refl

  helper_says : (h : Text) (es : List Sense) → NoText (helper_sense w h es).more
  helper_says h es = either_sense (is_word (codes "objectSpread2") h) _ _ (spread2_says es) (either_sense (is_word (codes "extends") h) _ _ (extends_says es) (either_sense (is_word (codes "objectDestructuringEmpty") h) _ _ (destructuring_says es)
      (either_sense (is_word (codes "objectWithoutProperties") h) _ _ (without_says es) (either_sense (is_word (codes "usingCtx") h) _ _ (using_says es) refl))))

mapped_says : (m : More) (ks : M Values) → NoText (mapped m ks)
mapped_says (helper_call h) ks = either (is_word (codes "toPropertyKey") h) _ _ refl refl
mapped_says _ ks = refl

maps_says : (es : List Sense) (ks : M Values) → NoText (maps_keys es ks)
maps_says (e ∷ []) ks = mapped_says e.more ks
maps_says _ ks = refl

required_says : (h : Option Text) (m : Meaning) → NoText (required_or h (plain_sense m)).more
required_says (Some h) m = refl
required_says None m = refl

call_by_says : (p : Place) (f : Sense) (es : List Sense) (m : More) → NoText (call_by p f es m).more
call_by_says p f es (helper_call h) = helper_says p.world h es
call_by_says p f es (maps ks) = maps_says es ks
call_by_says p f es (stack_member x m) = refl
call_by_says p f es _ = required_says _ _

call_says : (p : Place) (b : Bool) (f : Sense) (es : List Sense) → NoText (call_sense p b f es).more
call_says p true f es = refl
call_says p false f es = call_by_says p f es f.more

stack_says : (u : Supply) (x : Text) (r : M Reference) → NoText (said_of_member u x r)
stack_says no_helpers x r = refl
stack_says spread_by_global x r = refl
stack_says by_global x r = either (is_stack_key x) _ _ refl refl
stack_says (by_import m) x r = either (is_stack_key x) _ _ refl refl
stack_says (by_require m) x r = either (is_stack_key x) _ _ refl refl

helper_member_says : (u : Supply) (x : Text) (m : Meaning) → NoText (helper_member u x m).more
helper_member_says spread_by_global x m = either (is_word (codes "objectSpread2") x) _ _ refl refl
helper_member_says no_helpers x m = refl
helper_member_says by_global x m = refl
helper_member_says (by_import n) x m = refl
helper_member_says (by_require n) x m = refl

named_says : (p : Place) (o x : Text) (m : Meaning) → NoText (named_member p o x m).more
named_says p o x m = either_sense (is_helper_text x && is_global p.world p.supply o) _ _ (helper_member_says p.supply x m) (stack_says p.supply x m.reference)

member_by_says : (p : Place) (a : More) (f g : Form) (m : Meaning) → NoText (member_by p a f g m).more
member_by_says p (keys_of ks) f (word x) m = either (is_word (codes "map") x) _ _ refl refl
member_by_says p _ (word o) (word x) m = named_says p o x m
member_by_says p _ _ (word x) m = stack_says p.supply x m.reference
member_by_says p _ _ _ m = refl

member_says : (p : Place) (a b : Bool) (o k : Sense) (m : Meaning) → NoText (member_sense p a b o k m).more
member_says p false false o k m = member_by_says p o.more o.core.form k.core.form m
member_says p false true o k m = refl
member_says p true b o k m = refl

keys_say : (o : Option (M Values)) → NoText (keys_where o)
keys_say (Some ks) = refl
keys_say None = refl

assignment_says : (w : World) (op : Text) (a : More) (e : Sense) (m : Meaning) → NoText (assignment_by w op a e m).more
assignment_says w op (aims target) e m = either_sense (is_word (codes "=") op) _ _ refl refl
assignment_says w op (stack_member x target) e m = either_sense (is_word (codes "=") op) _ _ refl refl
assignment_says w op _ e m = refl

module _ (p : Place) (ts : List (Option Text)) (fs : List Bool) (block : Scope) (w : World) (m : Meaning) where
  tagged_says : (ps : List Portion) → NoText (sense_of p TaggedTemplateExpression ts fs block w m ps).more
  tagged_says (alone tag ∷ alone q ∷ []) = refl
  tagged_says _ = refl

  object_says : (ps : List Portion) → NoText (sense_of p ObjectExpression ts fs block w m ps).more
  object_says (rows es ∷ []) = refl
  object_says _ = refl

  assigned_says : (ps : List Portion) → NoText (sense_of p AssignmentExpression ts fs block w m ps).more
  assigned_says (alone l ∷ alone e ∷ []) = assignment_says p.world (first_text ts) l.more e m
  assigned_says _ = refl

  of_member_says : (ps : List Portion) → NoText (sense_of p MemberExpression ts fs block w m ps).more
  of_member_says (alone o ∷ alone k ∷ []) = member_says p (flag fs) (flag_after fs) o k m
  of_member_says _ = refl

  of_call_says : (ps : List Portion) → NoText (sense_of p CallExpression ts fs block w m ps).more
  of_call_says (alone f ∷ rows es ∷ []) = call_says p (flag fs) f es
  of_call_says _ = refl

-- expressions that are no literals and no templates
abbrev pub is_read_kind : AstType → Bool
is_read_kind Identifier = true
is_read_kind ThisExpression = true
is_read_kind RegExpLiteral = true
is_read_kind TaggedTemplateExpression = true
is_read_kind ArrayExpression = true
is_read_kind ObjectExpression = true
is_read_kind UnaryExpression = true
is_read_kind UpdateExpression = true
is_read_kind BinaryExpression = true
is_read_kind LogicalExpression = true
is_read_kind ConditionalExpression = true
is_read_kind AssignmentExpression = true
is_read_kind SequenceExpression = true
is_read_kind MemberExpression = true
is_read_kind CallExpression = true
is_read_kind NewExpression = true
is_read_kind ChainExpression = true
is_read_kind ParenthesizedExpression = true
is_read_kind MetaProperty = true
is_read_kind _ = false

abbrev no_scope : Scope
no_scope = scope_by [] false

abbrev parts_at : Supply → World → Fields → List Portion
parts_at u w fs = portions (λ i. placed_at u w [] []) fs

read_says : (u : Supply) (w : World) (k : Tree) → is_read_kind (kind_of k) ≡ true → NoText (sense (placed_at u w [] []) k).more
read_says u w (node Identifier l fs) h = name_said u (w.scope (first_text l.texts))
read_says u w (node ThisExpression l fs) h = refl
read_says u w (node RegExpLiteral l fs) h = refl
read_says u w (node TaggedTemplateExpression l fs) h = tagged_says (placed_at u w [] []) l.texts l.flags no_scope w (meaning_of w TaggedTemplateExpression l.texts l.flags (core_parts (parts_at u w fs))) (parts_at u w fs)
read_says u w (node ArrayExpression l fs) h = keys_say _
read_says u w (node ObjectExpression l fs) h = object_says (placed_at u w [] []) l.texts l.flags no_scope w (meaning_of w ObjectExpression l.texts l.flags (core_parts (parts_at u w fs))) (parts_at u w fs)
read_says u w (node UnaryExpression l fs) h = refl
read_says u w (node UpdateExpression l fs) h = refl
read_says u w (node BinaryExpression l fs) h = refl
read_says u w (node LogicalExpression l fs) h = refl
read_says u w (node ConditionalExpression l fs) h = refl
read_says u w (node AssignmentExpression l fs) h = assigned_says (placed_at u w [] []) l.texts l.flags no_scope w (meaning_of w AssignmentExpression l.texts l.flags (core_parts (parts_at u w fs))) (parts_at u w fs)
read_says u w (node SequenceExpression l fs) h = refl
read_says u w (node MemberExpression l fs) h = of_member_says (placed_at u w [] []) l.texts l.flags no_scope w (meaning_of w MemberExpression l.texts l.flags (core_parts (parts_at u w fs))) (parts_at u w fs)
read_says u w (node CallExpression l fs) h = of_call_says (placed_at u w [] []) l.texts l.flags no_scope w (meaning_of w CallExpression l.texts l.flags (core_parts (parts_at u w fs))) (parts_at u w fs)
read_says u w (node NewExpression l fs) h = refl
read_says u w (node ChainExpression l fs) h = refl
read_says u w (node ParenthesizedExpression l fs) h = refl
read_says u w (node MetaProperty l fs) h = refl
read_says u w (node _ l fs) h = absurd (false≢true h)

-- a template with an expression
text_alone_none : (qs es : List Sense) (e : Sense) → text_alone qs (e ∷ es) ≡ None
text_alone_none [] es e = refl
text_alone_none (a ∷ []) es e = refl
text_alone_none (a ∷ (b ∷ qs)) es e = refl

pub template_leaves : (u : Supply) (l m : Label) (qs es : Trees) (e : Tree) → flag_at 1 l.flags ≡ true → LeavesOut u None l (node TemplateLiteral m (many qs then many (e before es) then done))
template_leaves u l m qs es e f w = ap (λ (c : Bool). excluded_text c (sense (placed_at u w [] []) (node TemplateLiteral m (many qs then many (e before es) then done)))) f
    ∙ text_alone_none (senses (placed_at u w [] []) qs) (senses (placed_at u w [] []) es) (sense (placed_at u w [] []) e)

pub read_leaves : (u : Supply) (l : Label) (k : Tree) → flag_at 1 l.flags ≡ true → is_read_kind (kind_of k) ≡ true → LeavesOut u None l k
read_leaves u l k f h w = ap (λ (c : Bool). excluded_text c (sense (placed_at u w [] []) k)) f ∙ read_says u w k h
