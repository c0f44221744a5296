-- No operand but a spread says that it spreads, where a program gets no helper but that of object spread; and what `Math.pow(l, r)` means there.
use Rattle.std.proofs.Common.{◌≡◌, refl, Option, Some, None, List, [], ◌∷◌}
use Rattle.std.specs.Prelude.{Bool, true, false, ◌&&◌, codes, if◌then◌else◌}
use Rattle.es_tree.specs.Names.{first_text as first}
use Rattle.es_tree.specs.Tree.{Tree, node, Label, Fields, done, ◌then◌, one, many, kind_of}
use Rattle.es_tree.specs.Words.{Text}
use Rattle.es_tree.specs.declared.ast_type.AstType.{AstType}
use Rattle.es_tree.specs.declared.ast_type.AstType.TheVariants.{ArrayExpression, AssignmentExpression, BigIntLiteral, BinaryExpression, BooleanLiteral, CallExpression, ChainExpression, ConditionalExpression, Identifier, LogicalExpression, MemberExpression, MetaProperty, NewExpression, NullLiteral, NumericLiteral, ObjectExpression, ParenthesizedExpression, RegExpLiteral, SequenceExpression, SpreadElement, StringLiteral, TaggedTemplateExpression, TemplateLiteral, ThisExpression, UnaryExpression, UpdateExpression}
use Rattle.es_runs.specs.Core.{Form, Meaning, World, ask_pow, flag, flag_after, gives_value, is_free, is_other, is_spread_kind, meaning_of, nothing}
use Rattle.es_runs.specs.Core.Form.{word}
use Rattle.es_runs.specs.Exponentiation.{power_at}
use Rattle.es_runs.specs.Machine.{M, Values}
use Rattle.es_statement_runs.specs.Calls.{assignment_by, call_by, call_sense, core_call, destructuring_sense, extends_sense, helper_member, helper_sense, is_bare, is_global, is_spread, mapped, maps_keys, member_by, member_sense, named_member, required_or, spread2_sense, static_member, using_sense, without_sense}
use Rattle.es_statement_runs.specs.Helpers.{Supply, is_helper_text}
use Rattle.es_statement_runs.specs.Helpers.Supply.{no_helpers, spread_by_global}
use Rattle.es_statement_runs.specs.Kinds.{portions, scope_by, sense, sense_of}
use Rattle.es_statement_runs.specs.Names.{is_word, own_names, own_use}
use Rattle.es_statement_runs.specs.Operands.{fields_over, is_expression_node, stands_over}
use Rattle.es_statement_runs.specs.Places.{placed_at}
use Rattle.es_statement_runs.specs.Senses.{More, Portion, Sense, core_parts, keys_where, plain_sense}
use Rattle.es_statement_runs.specs.Senses.More.{aims, helper_call, keys_of, maps, stack_member}
use Rattle.es_statement_runs.specs.Senses.Portion.{alone, rows}
use Rattle.es_statement_runs.specs.Stacks.{Scope}
use Rattle.es_statement_runs.proofs.Everywhere.{both_left}
use Rattle.es_statement_steps.proofs.PlainSupplies.{core, is_core_supply, said-unspread}
use Rattle.es_statement_steps.proofs.SettledOperands.{is_meant_operand}

either : (b : Bool) (e d : More) → is_spread e ≡ false → is_spread d ≡ false → is_spread (if b then e else d) ≡ false
either true e d h g = h
either false e d h g = g

one-sense : (b : Bool) (e d : Sense) → is_spread e.more ≡ false → is_spread d.more ≡ false → is_spread (if b then e else d).more ≡ false
one-sense true e d h g = h
one-sense false e d h g = g

-- CALLS

module _ (w : World) where
  spread2-unspread : (es : List Sense) → is_spread (spread2_sense w es).more ≡ false
  spread2-unspread [] = refl
  spread2-unspread (a ∷ es) = refl

  extends-unspread : (es : List Sense) → is_spread (extends_sense w es).more ≡ false
  extends-unspread (a ∷ e ∷ []) = one-sense (is_bare a.more) _ _ refl refl
  extends-unspread _ = refl

  destructuring-unspread : (es : List Sense) → is_spread (destructuring_sense w es).more ≡ false
  destructuring-unspread (e ∷ []) = refl
  destructuring-unspread _ = refl

  without-unspread : (es : List Sense) → is_spread (without_sense w es).more ≡ false
  without-unspread (e ∷ k ∷ []) = refl
  without-unspread _ = refl

  using-unspread : (es : List Sense) → is_spread (using_sense es).more ≡ false
  using-unspread [] = refl
  using-unspread _ = refl

  helper-unspread : (h : Text) (es : List Sense) → is_spread (helper_sense w h es).more ≡ false
  helper-unspread h es = one-sense (is_word (codes "objectSpread2") h) _ _ (spread2-unspread es) (one-sense (is_word (codes "extends") h) _ _ (extends-unspread es) (one-sense (is_word (codes "objectDestructuringEmpty") h) _ _ (destructuring-unspread es)
      (one-sense (is_word (codes "objectWithoutProperties") h) _ _ (without-unspread es) (one-sense (is_word (codes "usingCtx") h) _ _ (using-unspread es) refl))))

mapped-unspread : (m : More) (ks : M Values) → is_spread (mapped m ks) ≡ false
mapped-unspread (helper_call h) ks = either (is_word (codes "toPropertyKey") h) _ _ refl refl
mapped-unspread _ ks = refl

maps-unspread : (es : List Sense) (ks : M Values) → is_spread (maps_keys es ks) ≡ false
maps-unspread (e ∷ []) ks = mapped-unspread e.more ks
maps-unspread _ ks = refl

required-unspread : (o : Option Text) (m : Meaning) → is_spread (required_or o (plain_sense m)).more ≡ false
required-unspread (Some h) m = refl
required-unspread None m = refl

module _ (u : Supply) (w : World) (ls : List Text) (x : Text) where
  call-by-unspread : (f : Sense) (es : List Sense) (m : More) → is_spread (call_by (placed_at u w ls x) f es m).more ≡ false
  call-by-unspread f es (helper_call h) = helper-unspread w h es
  call-by-unspread f es (maps ks) = maps-unspread es ks
  call-by-unspread f es (stack_member y m) = refl
  call-by-unspread f es _ = required-unspread _ (core_call w false f es)

  call-unspread : (b : Bool) (f : Sense) (es : List Sense) → is_spread (call_sense (placed_at u w ls x) b f es).more ≡ false
  call-unspread true f es = refl
  call-unspread false f es = call-by-unspread f es f.more

  assignment-unspread : (op : Text) (l : More) (e : Sense) (m : Meaning) → is_spread (assignment_by w op l e m).more ≡ false
  assignment-unspread op (aims t) e m = one-sense (is_word (codes "=") op) _ _ refl refl
  assignment-unspread op (stack_member y t) e m = one-sense (is_word (codes "=") op) _ _ refl refl
  assignment-unspread op _ e m = refl

-- MEMBERS

static-unspread : (u : Supply) → is_core_supply u ≡ true → (w : World) (ls : List Text) (x y : Text) (m : Meaning) → is_spread (static_member (placed_at u w ls x) y m).more ≡ false
static-unspread no_helpers h w ls x y m = refl
static-unspread spread_by_global h w ls x y m = refl
static-unspread _ h w ls x y m = absurd (cc h)

helper-member-unspread : (u : Supply) (y : Text) (m : Meaning) → is_core_supply u ≡ true → is_spread (helper_member u y m).more ≡ false
helper-member-unspread no_helpers y m h = refl
helper-member-unspread spread_by_global y m h = either (is_word (codes "objectSpread2") y) _ _ refl refl
helper-member-unspread _ y m h = absurd (cc h)

module _ (u : Supply) (plain : is_core_supply u ≡ true) (w : World) (ls : List Text) (x : Text) where
  named-unspread : (o y : Text) (m : Meaning) → is_spread (named_member (placed_at u w ls x) o y m).more ≡ false
  named-unspread o y m = one-sense (is_helper_text y && is_global w u o) _ _ (helper-member-unspread u y m plain) (static-unspread u plain w ls x y m)

  member-by-unspread : (e : More) (f g : Form) (m : Meaning) → is_spread (member_by (placed_at u w ls x) e f g m).more ≡ false
  member-by-unspread (keys_of ks) f (word y) m = either (is_word (codes "map") y) _ _ refl refl
  member-by-unspread _ (word o) (word y) m = named-unspread o y m
  member-by-unspread _ _ (word y) m = static-unspread u plain w ls x y m
  member-by-unspread _ _ _ m = refl

  member-unspread-at : (a b : Bool) (o k : Sense) (m : Meaning) → is_spread (member_sense (placed_at u w ls x) a b o k m).more ≡ false
  member-unspread-at false false o k m = member-by-unspread o.more o.core.form k.core.form m
  member-unspread-at false true o k m = refl
  member-unspread-at true b o k m = refl

  module _ (ts : List (Option Text)) (fs : List Bool) (block : Scope) (i : World) (m : Meaning) where
    member-unspread : (ps : List Portion) → is_spread (sense_of (placed_at u w ls x) MemberExpression ts fs block i m ps).more ≡ false
    member-unspread (alone o ∷ alone k ∷ []) = member-unspread-at (flag fs) (flag_after fs) o k m
    member-unspread _ = refl

    template-unspread : (ps : List Portion) → is_spread (sense_of (placed_at u w ls x) TemplateLiteral ts fs block i m ps).more ≡ false
    template-unspread (rows qs ∷ rows es ∷ []) = refl
    template-unspread _ = refl

    tagged-unspread : (ps : List Portion) → is_spread (sense_of (placed_at u w ls x) TaggedTemplateExpression ts fs block i m ps).more ≡ false
    tagged-unspread (alone tag ∷ alone q ∷ []) = refl
    tagged-unspread _ = refl

    object-unspread : (ps : List Portion) → is_spread (sense_of (placed_at u w ls x) ObjectExpression ts fs block i m ps).more ≡ false
    object-unspread (rows es ∷ []) = refl
    object-unspread _ = refl

  keys-unspread : (o : Option (M Values)) → is_spread (keys_where o) ≡ false
  keys-unspread (Some ks) = refl
  keys-unspread None = refl

  -- what isn't core
  further-unspread : (k : AstType) (l : Label) (fs : Fields) → is_meant_operand (node k l fs) ≡ true → is_spread_kind k ≡ false → is_spread (sense (placed_at u w ls x) (node k l fs)).more ≡ false
  further-unspread RegExpLiteral l fs h g = refl
  further-unspread TemplateLiteral l fs h g = template-unspread l.texts l.flags (scope_by (own_names TemplateLiteral fs) (own_use TemplateLiteral fs)) w nothing (portions (λ i. placed_at u w [] []) fs)
  further-unspread TaggedTemplateExpression l fs h g = tagged-unspread l.texts l.flags (scope_by (own_names TaggedTemplateExpression fs) (own_use TaggedTemplateExpression fs)) w nothing (portions (λ i. placed_at u w [] []) fs)
  further-unspread ArrayExpression l fs h g = keys-unspread _
  further-unspread SpreadElement l fs h g = absurd (cc g)
  further-unspread ObjectExpression l fs h g = object-unspread l.texts l.flags (scope_by (own_names ObjectExpression fs) (own_use ObjectExpression fs)) w nothing (portions (λ i. placed_at u w [] []) fs)
  further-unspread MetaProperty l fs h g = refl
  further-unspread AssignmentExpression l (one t then (one r then done)) h g = assignment-unspread u w ls x (first l.texts) _ _ _
  further-unspread AssignmentExpression l _ h g = refl
  further-unspread k l fs h g = absurd (cc h)

  rest-unspread : (k : AstType) (l : Label) (fs : Fields) → is_expression_node k fs ≡ false → stands_over is_meant_operand (node k l fs) ≡ true → is_spread_kind k ≡ false → is_spread (sense (placed_at u w ls x) (node k l fs)).more ≡ false
  rest-unspread k l fs e h g = at (is_other k fs) h
    where
      at : (b : Bool) → (if b then is_meant_operand (node k l fs) else (is_expression_node k fs && fields_over is_meant_operand fs)) ≡ true → is_spread (sense (placed_at u w ls x) (node k l fs)).more ≡ false
      at true o = further-unspread k l fs o g
      at false o = absurd (cc (e, both_left (is_expression_node k fs) _ o))

  pub unspread : (t : Tree) → stands_over is_meant_operand t ≡ true → is_spread_kind (kind_of t) ≡ false → is_spread (sense (placed_at u w ls x) t).more ≡ false
  unspread (node Identifier l fs) h g = said-unspread u plain (w.scope (first l.texts))
  unspread (node ThisExpression l fs) h g = refl
  unspread (node NullLiteral l fs) h g = refl
  unspread (node BooleanLiteral l fs) h g = refl
  unspread (node NumericLiteral l fs) h g = refl
  unspread (node BigIntLiteral l fs) h g = refl
  unspread (node StringLiteral l fs) h g = refl
  unspread (node UnaryExpression l fs) h g = refl
  unspread (node UpdateExpression l fs) h g = refl
  unspread (node BinaryExpression l fs) h g = refl
  unspread (node LogicalExpression l fs) h g = refl
  unspread (node ConditionalExpression l fs) h g = refl
  unspread (node AssignmentExpression l (one t then (one r then done))) h g = assignment-unspread u w ls x (first l.texts) _ _ _
  unspread (node SequenceExpression l fs) h g = refl
  unspread (node MemberExpression l fs) h g = member-unspread l.texts l.flags (scope_by (own_names MemberExpression fs) (own_use MemberExpression fs)) w (meaning_of w MemberExpression l.texts l.flags (core_parts (portions (λ i. placed_at u w [] []) fs))) (portions (λ i. placed_at u w [] []) fs)
  unspread (node CallExpression l (one f then (many ts then done))) h g = call-unspread u w ls x (flag l.flags) _ _
  unspread (node NewExpression l fs) h g = refl
  unspread (node ChainExpression l fs) h g = refl
  unspread (node ParenthesizedExpression l fs) h g = refl
  unspread (node k l fs) h g = rest-unspread k l fs refl h g

-- `Math.pow(l, r)` asks what `l ** r` asks

pub power-sense : (u : Supply) → is_core_supply u ≡ true → (v : World) → is_free (v.scope (codes "Math")) ≡ true → (m : Label) (l r : Tree) → is_spread (sense (placed_at u v [] []) l).more ≡ false → is_spread (sense (placed_at u v [] []) r).more ≡ false → (ls : List Text) (x : Text) →
    sense (placed_at u v ls x) (power_at m l r) ≡ plain_sense (gives_value (ask_pow v (core u v l) (core u v r)))
power-sense no_helpers h v math m l r left right ls x = rw (math, left, right) refl
power-sense spread_by_global h v math m l r left right ls x = rw (math, left, right) refl
power-sense _ h v math m l r left right ls x = absurd (cc h)
