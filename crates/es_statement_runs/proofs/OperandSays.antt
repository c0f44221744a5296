-- What nodes over operands say beside their meanings, in programs without helpers.
use Rattle.std.proofs.Common.{◌≡◌, refl, List, [], ◌∷◌}
use Rattle.std.specs.Prelude.{Bool, true, false, not, ◌&&◌, ◌||◌, Option, Some, None, codes, if◌then◌else◌}
use Rattle.es_tree.specs.Words.{Text}
use Rattle.es_tree.specs.Names.{first_text as first}
use Rattle.es_tree.specs.Tree.{Tree, node, Label, Fields, done, ◌then◌, missing, one, many, statements, Trees, empty, ◌before◌, kind_of}
use Rattle.es_tree.specs.declared.ast_type.AstType.{AstType}
use Rattle.es_tree.specs.declared.ast_type.AstType.TheVariants.{Identifier, ThisExpression, NullLiteral, BooleanLiteral, NumericLiteral, BigIntLiteral, StringLiteral, UnaryExpression, UpdateExpression, BinaryExpression, LogicalExpression, ConditionalExpression, AssignmentExpression, SequenceExpression, MemberExpression, CallExpression, NewExpression, ChainExpression, ParenthesizedExpression, RegExpLiteral, TemplateLiteral, TaggedTemplateExpression, ArrayExpression, SpreadElement, ObjectExpression, MetaProperty}
use Rattle.es_runs.specs.Alike.{Level}
use Rattle.es_runs.specs.Core.{World, Form, Meaning, begins_with_spread, has_spread, is_other, is_pattern, is_spread_kind, flag, flag_after, meaning_of, nothing}
use Rattle.es_runs.specs.Core.Form.{word}
use Rattle.es_runs.specs.Machine.{M, Values}
use Rattle.es_statement_runs.specs.Calls.{assignment_by, call_by, call_sense, core_call, destructuring_sense, extends_sense, first_spread, helper_sense, is_bare, is_require, is_spread, mapped, maps_keys, member_by, member_sense, required_or, some_spread, spread2_sense, using_sense, without_sense}
use Rattle.es_statement_runs.specs.Helpers.{is_helper_text}
use Rattle.es_statement_runs.specs.Helpers.Supply.{no_helpers}
use Rattle.es_statement_runs.specs.Kinds.{sense, sense_of, senses, portions, scope_by}
use Rattle.es_statement_runs.specs.Meant.{are_meant, as_role, is_meant_at, is_said, slots, spots, serves, nature, has_value, named_label, labels_in, word_in}
use Rattle.es_statement_runs.specs.Meant.Role.{a_value}
use Rattle.es_statement_runs.specs.Names.{is_word, own_names, own_use, names_of_all}
use Rattle.es_statement_runs.specs.Operands.{is_expression_node, is_further_kind, is_settled, stands_over, trees_over}
use Rattle.es_statement_runs.specs.Places.{avoids, quiet_at, value_taken}
use Rattle.es_statement_runs.specs.Senses.{More, Portion, Sense, key_items, keys_where, core_parts}
use Rattle.es_statement_runs.specs.Senses.More.{aims, helper_call, keys_of, maps, spreads, stack_member}
use Rattle.es_statement_runs.specs.Senses.Portion.{alone, rows}
use Rattle.es_statement_runs.specs.Stacks.{Scope}
use Rattle.es_statement_runs.proofs.Everywhere.{both_left, both_right, not_so}

-- what a node of this kind may say: it is no helper and no member of a stack, it aims as a pattern alone, and spreads as a spread
abbrev pub says : AstType → More → Bool
says k (helper_call h) = false
says k (stack_member x m) = false
says k (aims m) = is_pattern k
says k (spreads m) = is_spread_kind k
says k _ = not (is_spread_kind k)

pattern_apart : (k : AstType) → is_pattern k ≡ true → is_spread_kind k ≡ false
pattern_apart SpreadElement h = absurd (cc h)
pattern_apart _ h = refl

flipped : (a b : Bool) → a ≡ b → b ≡ a
flipped a b h = cc

-- so that it is a spread where it spreads
pub spread_said : (k : AstType) (m : More) → says k m ≡ true → is_spread m ≡ is_spread_kind k
spread_said k (spreads m) h = flipped _ _ h
spread_said k (aims m) h = flipped _ _ (pattern_apart k h)
spread_said k (helper_call m) h = absurd (cc h)
spread_said k (stack_member x m) h = absurd (cc h)
spread_said k _ h = flipped _ _ (not_so (is_spread_kind k) h)

module _ (w : World) (ls : List Text) (x : Text) where
  -- CALLS

  either : (b : Bool) (e d : Sense) → says CallExpression e.more ≡ true → says CallExpression d.more ≡ true → says CallExpression (if b then e else d).more ≡ true
  either true e d h g = h
  either false e d h g = g

  spread2_says : (es : List Sense) → says CallExpression (spread2_sense w es).more ≡ true
  spread2_says [] = refl
  spread2_says (a ∷ es) = refl

  extends_says : (es : List Sense) → says CallExpression (extends_sense w es).more ≡ true
  extends_says (a ∷ e ∷ []) = either (is_bare a.more) _ _ refl refl
  extends_says _ = refl

  destructuring_says : (es : List Sense) → says CallExpression (destructuring_sense w es).more ≡ true
  destructuring_says (e ∷ []) = refl
  destructuring_says _ = refl

  without_says : (es : List Sense) → says CallExpression (without_sense w es).more ≡ true
  without_says (e ∷ k ∷ []) = refl
  without_says _ = refl

  using_says : (es : List Sense) → says CallExpression (using_sense es).more ≡ true
  using_says [] = refl
  using_says _ = refl

  helper_says : (h : Text) (es : List Sense) → says CallExpression (helper_sense w h es).more ≡ true
  helper_says h es = either (is_word (codes "objectSpread2") h) _ _ (spread2_says es) (either (is_word (codes "extends") h) _ _ (extends_says es) (either (is_word (codes "objectDestructuringEmpty") h) _ _ (destructuring_says es)
      (either (is_word (codes "objectWithoutProperties") h) _ _ (without_says es) (either (is_word (codes "usingCtx") h) _ _ (using_says es) refl))))

  key_either : (b : Bool) (ks : M Values) → says CallExpression (if b then keys_of ks else More.nothing_more) ≡ true
  key_either true ks = refl
  key_either false ks = refl

  mapped_says : (m : More) (ks : M Values) → says CallExpression (mapped m ks) ≡ true
  mapped_says (helper_call h) ks = key_either (is_word (codes "toPropertyKey") h) ks
  mapped_says _ ks = refl

  maps_says : (es : List Sense) (ks : M Values) → says CallExpression (maps_keys es ks) ≡ true
  maps_says (e ∷ []) ks = mapped_says e.more ks
  maps_says _ ks = refl

  required_says : (b : Bool) (m : Meaning) → says CallExpression (required_or (if b then None else None) (Rattle.es_statement_runs.specs.Senses.plain_sense m)).more ≡ true
  required_says true m = refl
  required_says false m = refl

  call_by_says : (f : Sense) (es : List Sense) (m : More) → says CallExpression (call_by (quiet_at w ls x) f es m).more ≡ true
  call_by_says f es (helper_call h) = helper_says h es
  call_by_says f es (maps ks) = maps_says es ks
  call_by_says f es (stack_member y m) = refl
  call_by_says f es _ = required_says (is_require w f.core.form) (core_call w false f es)

  pub call_says : (b : Bool) (f : Sense) (es : List Sense) → says CallExpression (call_sense (quiet_at w ls x) b f es).more ≡ true
  call_says true f es = refl
  call_says false f es = call_by_says f es f.more

  -- where the callee is no helper and no member of a stack, the call is the core's
  required_core : (b : Bool) (m : Meaning) → (required_or (if b then None else None) (Rattle.es_statement_runs.specs.Senses.plain_sense m)).core ≡ m
  required_core true m = refl
  required_core false m = refl

  call_by_core : (k : AstType) (f : Sense) (es : List Sense) (m : More) → says k m ≡ true → (call_by (quiet_at w ls x) f es m).core ≡ core_call w false f es
  call_by_core k f es (helper_call h) g = absurd (cc g)
  call_by_core k f es (stack_member y m) g = absurd (cc g)
  call_by_core k f es (maps ks) g = refl
  call_by_core k f es _ g = required_core (is_require w f.core.form) (core_call w false f es)

  pub call_core : (k : AstType) (b : Bool) (f : Sense) (es : List Sense) → says k f.more ≡ true → (call_sense (quiet_at w ls x) b f es).core ≡ core_call w b f es
  call_core k true f es g = refl
  call_core k false f es g = call_by_core k f es f.more g

  -- MEMBERS

  named_core : (b : Bool) (h e : Sense) (m : Meaning) → e.core ≡ m → (if b && false then h else e).core ≡ m
  named_core true h e m g = g
  named_core false h e m g = g

  member_by_core : (a : More) (f g : Form) (m : Meaning) → (member_by (quiet_at w ls x) a f g m).core ≡ m
  member_by_core (keys_of ks) f (word y) m = refl
  member_by_core _ (word o) (word y) m = named_core (is_helper_text y) _ _ m refl
  member_by_core _ _ (word y) m = refl
  member_by_core _ _ _ m = refl

  member_core_at : (a b : Bool) (o k : Sense) (m : Meaning) → (member_sense (quiet_at w ls x) a b o k m).core ≡ m
  member_core_at false false o k m = member_by_core o.more o.core.form k.core.form m
  member_core_at false true o k m = refl
  member_core_at true b o k m = refl

  map_either : (b : Bool) (ks : M Values) → says MemberExpression (if b then maps ks else More.nothing_more) ≡ true
  map_either true ks = refl
  map_either false ks = refl

  named_says : (b : Bool) (h e : Sense) → says MemberExpression e.more ≡ true → says MemberExpression (if b && false then h else e).more ≡ true
  named_says true h e g = g
  named_says false h e g = g

  member_by_says : (a : More) (f g : Form) (m : Meaning) → says MemberExpression (member_by (quiet_at w ls x) a f g m).more ≡ true
  member_by_says (keys_of ks) f (word y) m = map_either (is_word (codes "map") y) ks
  member_by_says _ (word o) (word y) m = named_says (is_helper_text y) _ _ refl
  member_by_says _ _ (word y) m = refl
  member_by_says _ _ _ m = refl

  member_says_at : (a b : Bool) (o k : Sense) (m : Meaning) → says MemberExpression (member_sense (quiet_at w ls x) a b o k m).more ≡ true
  member_says_at false false o k m = member_by_says o.more o.core.form k.core.form m
  member_says_at false true o k m = refl
  member_says_at true b o k m = refl

  module _ (ts : List (Option Text)) (fs : List Bool) (block : Scope) (i : World) (m : Meaning) where
    pub member_core : (ps : List Portion) → (sense_of (quiet_at w ls x) MemberExpression ts fs block i m ps).core ≡ m
    member_core (alone o ∷ alone k ∷ []) = member_core_at (flag fs) (flag_after fs) o k m
    member_core _ = refl

    member_says : (ps : List Portion) → says MemberExpression (sense_of (quiet_at w ls x) MemberExpression ts fs block i m ps).more ≡ true
    member_says (alone o ∷ alone k ∷ []) = member_says_at (flag fs) (flag_after fs) o k m
    member_says _ = refl

    template_says : (ps : List Portion) → says TemplateLiteral (sense_of (quiet_at w ls x) TemplateLiteral ts fs block i m ps).more ≡ true
    template_says (rows qs ∷ rows es ∷ []) = refl
    template_says _ = refl

    tagged_says : (ps : List Portion) → says TaggedTemplateExpression (sense_of (quiet_at w ls x) TaggedTemplateExpression ts fs block i m ps).more ≡ true
    tagged_says (alone tag ∷ alone q ∷ []) = refl
    tagged_says _ = refl

    object_says : (ps : List Portion) → says ObjectExpression (sense_of (quiet_at w ls x) ObjectExpression ts fs block i m ps).more ≡ true
    object_says (rows es ∷ []) = refl
    object_says _ = refl

  keys_say : (o : Option (M Values)) → says ArrayExpression (keys_where o) ≡ true
  keys_say (Some ks) = refl
  keys_say None = refl

  -- ASSIGNMENTS

  equal_says : (b : Bool) (e d : Sense) → says AssignmentExpression e.more ≡ true → says AssignmentExpression d.more ≡ true → says AssignmentExpression (if b then e else d).more ≡ true
  equal_says true e d h g = h
  equal_says false e d h g = g

  assignment_says : (op : Text) (l : More) (e : Sense) (m : Meaning) → says AssignmentExpression (assignment_by w op l e m).more ≡ true
  assignment_says op (aims t) e m = equal_says (is_word (codes "=") op) _ _ refl refl
  assignment_says op (stack_member y t) e m = equal_says (is_word (codes "=") op) _ _ refl refl
  assignment_says op _ e m = refl

  -- an assignment to what is no pattern is the core's
  pub assignment_core : (k : AstType) (op : Text) (l : More) (e : Sense) (m : Meaning) → says k l ≡ true → is_pattern k ≡ false → (assignment_by w op l e m).core ≡ m
  assignment_core k op (aims t) e m h g = absurd (cc (h, g))
  assignment_core k op (stack_member y t) e m h g = absurd (cc h)
  assignment_core k op (helper_call y) e m h g = absurd (cc h)
  assignment_core k op _ e m h g = refl

  -- NODES

  module _ (bad : Level → Text → Bool) where
    -- the fields of an operand that means something
    meant_fields : (k : AstType) (l : Label) (fs : Fields) → is_settled bad (node k l fs) ≡ true →
        are_meant no_helpers (slots k l.flags (has_value k fs) (named_label k fs)) (spots (as_role a_value false) k l.texts (own_use k fs) (has_value k fs) (named_label k fs) []) (labels_in k (named_label k fs) []) (word_in k l.texts) fs ≡ true
    meant_fields k l fs h =
        let b1 : Bool = serves (nature k) a_value in
        let b2 : Bool = is_said no_helpers (as_role a_value false) k l.texts l.flags (has_value k fs) (names_of_all (own_names k fs)) (named_label k fs) [] in
        both_right b2 _ (both_right b1 _ (both_right (avoids bad value_taken (node k l fs)) _ (both_right (is_further_kind k) _ h)))

    spread_says : (l : Label) (fs : Fields) → is_settled bad (node SpreadElement l fs) ≡ true → says SpreadElement (sense (quiet_at w ls x) (node SpreadElement l fs)).more ≡ true
    spread_says l (one t then done) h = refl
    spread_says l (one t then (f then fs)) h = absurd (cc (both_right (is_meant_at no_helpers (as_role a_value false) [] [] t) false (meant_fields SpreadElement l (one t then (f then fs)) h)))
    spread_says l done h = absurd (cc (meant_fields SpreadElement l done h))
    spread_says l (missing then fs) h = absurd (cc (meant_fields SpreadElement l (missing then fs) h))
    spread_says l (many ts then fs) h = absurd (cc (meant_fields SpreadElement l (many ts then fs) h))
    spread_says l (statements ts then fs) h = absurd (cc (meant_fields SpreadElement l (statements ts then fs) h))

    settled_kind : (k : AstType) (l : Label) (fs : Fields) → is_settled bad (node k l fs) ≡ true → is_further_kind k ≡ true
    settled_kind k l fs h = both_left (is_further_kind k) _ h

    further_says : (k : AstType) (l : Label) (fs : Fields) → is_other k fs ≡ true → is_settled bad (node k l fs) ≡ true → says k (sense (quiet_at w ls x) (node k l fs)).more ≡ true
    further_says RegExpLiteral l fs o h = refl
    further_says TemplateLiteral l fs o h = template_says l.texts l.flags (scope_by (own_names TemplateLiteral fs) (own_use TemplateLiteral fs)) w nothing (portions (λ i. quiet_at w [] []) fs)
    further_says TaggedTemplateExpression l fs o h = tagged_says l.texts l.flags (scope_by (own_names TaggedTemplateExpression fs) (own_use TaggedTemplateExpression fs)) w nothing (portions (λ i. quiet_at w [] []) fs)
    further_says ArrayExpression l fs o h = keys_say _
    further_says SpreadElement l fs o h = spread_says l fs h
    further_says ObjectExpression l fs o h = object_says l.texts l.flags (scope_by (own_names ObjectExpression fs) (own_use ObjectExpression fs)) w nothing (portions (λ i. quiet_at w [] []) fs)
    further_says MetaProperty l fs o h = refl
    further_says AssignmentExpression l (one t then (one r then done)) o h = assignment_says (first l.texts) _ _ _
    further_says AssignmentExpression l _ o h = refl
    further_says k l fs o h = absurd (cc (settled_kind k l fs h))

    rest_says : (k : AstType) (l : Label) (fs : Fields) → is_expression_node k fs ≡ false → stands_over (is_settled bad) (node k l fs) ≡ true → says k (sense (quiet_at w ls x) (node k l fs)).more ≡ true
    rest_says k l fs e h = at (is_other k fs) refl h
      where
        at : (b : Bool) → is_other k fs ≡ b → (if b then is_settled bad (node k l fs) else (is_expression_node k fs && Rattle.es_statement_runs.specs.Operands.fields_over (is_settled bad) fs)) ≡ true → says k (sense (quiet_at w ls x) (node k l fs)).more ≡ true
        at true o g = further_says k l fs o g
        at false o g = absurd (cc (e, both_left (is_expression_node k fs) _ g))

    pub node_says : (t : Tree) → stands_over (is_settled bad) t ≡ true → says (kind_of t) (sense (quiet_at w ls x) t).more ≡ true
    node_says (node Identifier l fs) h = refl
    node_says (node ThisExpression l fs) h = refl
    node_says (node NullLiteral l fs) h = refl
    node_says (node BooleanLiteral l fs) h = refl
    node_says (node NumericLiteral l fs) h = refl
    node_says (node BigIntLiteral l fs) h = refl
    node_says (node StringLiteral l fs) h = refl
    node_says (node UnaryExpression l fs) h = refl
    node_says (node UpdateExpression l fs) h = refl
    node_says (node BinaryExpression l fs) h = refl
    node_says (node LogicalExpression l fs) h = refl
    node_says (node ConditionalExpression l fs) h = refl
    node_says (node AssignmentExpression l (one t then (one r then done))) h = assignment_says (first l.texts) _ _ _
    node_says (node SequenceExpression l fs) h = refl
    node_says (node MemberExpression l fs) h = member_says l.texts l.flags (scope_by (own_names MemberExpression fs) (own_use MemberExpression fs)) w (meaning_of w MemberExpression l.texts l.flags (core_parts (portions (λ i. quiet_at w [] []) fs))) (portions (λ i. quiet_at w [] []) fs)
    node_says (node CallExpression l (one f then (many ts then done))) h = call_says (flag l.flags) _ _
    node_says (node NewExpression l fs) h = refl
    node_says (node ChainExpression l fs) h = refl
    node_says (node ParenthesizedExpression l fs) h = refl
    node_says (node k l fs) h = rest_says k l fs refl h

-- ARGUMENTS

module _ (w : World) (bad : Level → Text → Bool) where
  pub begins_said : (ts : Trees) → trees_over (is_settled bad) ts ≡ true → first_spread (senses (quiet_at w [] []) ts) ≡ begins_with_spread ts
  begins_said empty h = refl
  begins_said (t before ts) h = spread_said (kind_of t) _ (node_says w [] [] bad t (both_left (stands_over (is_settled bad) t) _ h))

  pub some_said : (ts : Trees) → trees_over (is_settled bad) ts ≡ true → some_spread (senses (quiet_at w [] []) ts) ≡ has_spread ts
  some_said empty h = refl
  some_said (t before ts) h = λ i. spread_said (kind_of t) _ (node_says w [] [] bad t (both_left (stands_over (is_settled bad) t) (trees_over (is_settled bad) ts) h)) i || some_said ts (both_right (stands_over (is_settled bad) t) (trees_over (is_settled bad) ts) h) i
