-- A core program means what it means in the core.
use Rattle.std.proofs.Common.{◌≡◌, refl, List, [], ◌∷◌, ap, ◌∙◌, sym}
use Rattle.std.specs.Prelude.{ℕ, Bool, true, false, not, ◌&&◌, Option, None, codes, if◌then◌else◌}
use Rattle.es_runs.proofs.CoreWorlds.{assigns, formed_alone, never}
use Rattle.es_tree.specs.Words.{Text}
use Rattle.es_tree.specs.Names.{first_text}
use Rattle.es_tree.specs.Core.{is_core_kind, is_core_node}
use Rattle.es_tree.specs.Scopes.{Declared}
use Rattle.es_tree.specs.Walks.{all_nodes, all_in_fields, all_in_field, all_in_trees}
use Rattle.es_tree.specs.Tree.{Tree, node, Label, Fields, done, ◌then◌, Field, missing, one, many, statements, Trees, empty, ◌before◌, kind_of}
use Rattle.es_tree.specs.declared.ast_type.AstType.{AstType}
use Rattle.es_tree.specs.declared.ast_type.AstType.TheVariants.{BlockStatement, ForStatement, ForOfStatement, SwitchStatement, Program, Directive, ExpressionStatement, VariableDeclaration, VariableDeclarator, Identifier, ThisExpression, NullLiteral, BooleanLiteral, NumericLiteral, BigIntLiteral, StringLiteral, UnaryExpression, UpdateExpression, BinaryExpression, LogicalExpression, ConditionalExpression, AssignmentExpression, SequenceExpression, MemberExpression, CallExpression, NewExpression, ChainExpression, ParenthesizedExpression, SpreadElement, ObjectTarget, ArrayTarget, TargetWithDefault, ObjectPattern, ArrayPattern, AssignmentPattern}
use Rattle.es_runs.specs.Machine.{Value, M}
use Rattle.es_runs.specs.Machine.OwnValue.{helper}
use Rattle.es_runs.specs.Machine.Value.{own}
use Rattle.es_runs.specs.Core.{literal, World, Meaning, Form, Part, meaning, meanings, part, parts, meaning_of, gives_value, call_of, in_order, flag, flag_after, begins_with_spread, has_spread, is_pattern, is_spread_kind, first_formed, form_beside}
use Rattle.es_runs.specs.Core.Part.{single, several}
use Rattle.es_runs.specs.Core.Form.{word, math_pow, member_call, member_bind, other, null_form, zero_form, void_zero}
use Rattle.es_statement_runs.specs.Calls.{static_member, call_sense, call_by, core_call, called_form, is_spread, some_spread, first_spread, assignment_by, member_sense, member_by, is_require, required_or}
use Rattle.es_statement_runs.specs.Senses.{Place, More, Sense, Portion, cores, core_part, core_parts}
use Rattle.es_statement_runs.specs.Senses.More.{helper_call, nothing_more, literal_text, heads}
use Rattle.es_statement_runs.specs.Senses.Portion.{gap, alone, rows}
use Rattle.es_statement_runs.specs.Helpers.{is_helper_text}
use Rattle.es_statement_runs.specs.Helpers.Supply.{no_helpers}
use Rattle.es_statement_runs.specs.Stacks.{Scope, with_stack_where}
use Rattle.es_statement_runs.specs.Names.{is_word, using_here, using_in, own_names, own_use}
use Rattle.es_statement_runs.specs.Kinds.{sense, senses, portion, portions, sense_of, inside, scope_by, label_in}
use Rattle.es_statement_runs.specs.StatementParts.{declarator_by, begun, first_asked, first_more, program_sense}
use Rattle.es_statement_runs.specs.Laws.{quiet_place}

-- what a core node may say beside its meaning
abbrev plain : More → Bool
plain nothing_more = true
plain (literal_text t) = true
plain (heads m) = true
plain _ = false

abbrev all_plain : List Sense → Bool
all_plain [] = true
all_plain (e ∷ es) = plain e.more && all_plain es

abbrev plain_portion : Portion → Bool
plain_portion gap = true
plain_portion (alone e) = plain e.more
plain_portion (rows es) = all_plain es

abbrev plain_portions : List Portion → Bool
plain_portions [] = true
plain_portions (x ∷ xs) = plain_portion x && plain_portions xs

and_left : (a b : Bool) → a && b ≡ true → a ≡ true
and_left true b h = refl
and_left false b h = absurd (cc h)

and_right : (a b : Bool) → a && b ≡ true → b ≡ true
and_right true b h = h
and_right false b h = absurd (cc h)

not_true : (b : Bool) → not b ≡ true → b ≡ false
not_true true h = absurd (cc h)
not_true false h = refl

abbrev at_place : World → List Text → Text → Place
at_place w ls x = record { world = w; labels = ls; word = x; supply = no_helpers }

-- CALLS

no_spread : (m : More) → plain m ≡ true → is_spread m ≡ false
no_spread nothing_more h = refl
no_spread (literal_text t) h = refl
no_spread (heads m) h = refl
no_spread _ h = absurd (cc h)

none_spread : (es : List Sense) → all_plain es ≡ true → some_spread es ≡ false
none_spread [] h = refl
none_spread (e ∷ es) h = rw (no_spread e.more (and_left (plain e.more) (all_plain es) h), none_spread es (and_right (plain e.more) (all_plain es) h))

not_first : (es : List Sense) → all_plain es ≡ true → first_spread es ≡ false
not_first [] h = refl
not_first (e ∷ es) h = no_spread e.more (and_left (plain e.more) (all_plain es) h)

form_kept : (es : List Sense) (f : Form) → all_plain es ≡ true → called_form es f ≡ f
form_kept es math_pow h = rw (none_spread es h)
form_kept es member_call h = rw (not_first es h)
form_kept es member_bind h = rw (not_first es h)
form_kept es (word x) h = refl
form_kept es other h = refl
form_kept es null_form h = refl
form_kept es zero_form h = refl
form_kept es void_zero h = refl

call_kept : (w : World) (optional : Bool) (f : Sense) (es : List Sense) → all_plain es ≡ true → core_call w optional f es ≡ call_of w optional f.core (cores es)
call_kept w optional f es h = ap (λ (g : Form). call_of w optional (record { reference = f.core.reference; form = g }) (cores es)) (form_kept es f.core.form h)

-- what is said is plain, and the meaning is this
pub record Kept (m : Meaning) (e : Sense) : Type 0 where
  pub meaning : e.core ≡ m
  pub plain : plain e.more ≡ true

required_kept : (b : Bool) (x : Text) (e : Sense) (m : Meaning) → Kept m e → Kept m (required_or (if b then None else None) e)
required_kept true x e m h = h
required_kept false x e m h = h

called_kept : (w : World) (ls : List Text) (x : Text) (f : Sense) (es : List Sense) (more : More) → plain more ≡ true → all_plain es ≡ true → Kept (call_of w false f.core (cores es)) (call_by (at_place w ls x) f es more)
called_kept w ls x f es nothing_more h g = required_kept (is_require w f.core.form) x _ _ (record { meaning = call_kept w false f es g; plain = refl })
called_kept w ls x f es (literal_text t) h g = required_kept (is_require w f.core.form) x _ _ (record { meaning = call_kept w false f es g; plain = refl })
called_kept w ls x f es (heads m) h g = required_kept (is_require w f.core.form) x _ _ (record { meaning = call_kept w false f es g; plain = refl })
called_kept w ls x f es _ h g = absurd (cc h)

call_sense_kept : (w : World) (ls : List Text) (x : Text) (b : Bool) (f : Sense) (es : List Sense) → plain f.more ≡ true → all_plain es ≡ true → Kept (call_of w b f.core (cores es)) (call_sense (at_place w ls x) b f es)
call_sense_kept w ls x true f es h g = record { meaning = call_kept w true f es g; plain = refl }
call_sense_kept w ls x false f es h g = called_kept w ls x f es f.more h g

-- MEMBERS, ASSIGNMENTS, DECLARATORS

named_kept : (w : World) (ls : List Text) (x y z : Text) (m : Meaning) (b : Bool) → Kept m (if b && false then record { core = literal (own (helper z)) other; more = helper_call z } else static_member (at_place w ls x) z m)
named_kept w ls x y z m true = record { meaning = refl; plain = refl }
named_kept w ls x y z m false = record { meaning = refl; plain = refl }

member_by_kept : (w : World) (ls : List Text) (x : Text) (e : More) (f g : Form) (m : Meaning) → plain e ≡ true → Kept m (member_by (at_place w ls x) e f g m)
member_by_kept w ls x nothing_more (word o) (word k) m h = named_kept w ls x o k m (is_helper_text k)
member_by_kept w ls x (literal_text t) (word o) (word k) m h = named_kept w ls x o k m (is_helper_text k)
member_by_kept w ls x (heads t) (word o) (word k) m h = named_kept w ls x o k m (is_helper_text k)
member_by_kept w ls x nothing_more f (word k) m h = record { meaning = refl; plain = refl }
member_by_kept w ls x (literal_text t) f (word k) m h = record { meaning = refl; plain = refl }
member_by_kept w ls x (heads t) f (word k) m h = record { meaning = refl; plain = refl }
member_by_kept w ls x nothing_more f g m h = record { meaning = refl; plain = refl }
member_by_kept w ls x (literal_text t) f g m h = record { meaning = refl; plain = refl }
member_by_kept w ls x (heads t) f g m h = record { meaning = refl; plain = refl }
member_by_kept w ls x _ f g m h = absurd (cc h)

member_kept : (w : World) (ls : List Text) (x : Text) (a b : Bool) (o k : Sense) (m : Meaning) → plain o.more ≡ true → Kept m (member_sense (at_place w ls x) a b o k m)
member_kept w ls x false false o k m h = member_by_kept w ls x o.more o.core.form k.core.form m h
member_kept w ls x _ _ o k m h = record { meaning = refl; plain = refl }

assignment_kept : (w : World) (op : Text) (l : More) (e : Sense) (m : Meaning) → plain l ≡ true → Kept m (assignment_by w op l e m)
assignment_kept w op nothing_more e m h = record { meaning = refl; plain = refl }
assignment_kept w op (literal_text t) e m h = record { meaning = refl; plain = refl }
assignment_kept w op (heads t) e m h = record { meaning = refl; plain = refl }
assignment_kept w op _ e m h = absurd (cc h)

declarator_kept : (w : World) (ls : List Text) (x : Text) (l : More) (id e : Sense) (m : Meaning) → is_word (codes "using") x ≡ false → plain l ≡ true → Kept m (declarator_by (at_place w ls x) l id e m)
declarator_kept w ls x nothing_more id e m u h = rw u (record { meaning = refl; plain = refl })
declarator_kept w ls x (literal_text t) id e m u h = rw u (record { meaning = refl; plain = refl })
declarator_kept w ls x (heads t) id e m u h = rw u (record { meaning = refl; plain = refl })
declarator_kept w ls x _ id e m u h = absurd (cc h)

-- PROGRAMS

first_kept : (m : More) (rest : M Value) → plain m ≡ true → first_asked m rest ≡ rest
first_kept nothing_more rest h = refl
first_kept (literal_text t) rest h = refl
first_kept (heads t) rest h = refl
first_kept _ rest h = absurd (cc h)

begun_kept : (es : List Sense) (m : M Value) → all_plain es ≡ true → begun es m ≡ m
begun_kept [] m h = refl
begun_kept (e ∷ es) m h = rw (first_kept e.more (begun es m) (and_left (plain e.more) (all_plain es) h)) (begun_kept es m (and_right (plain e.more) (all_plain es) h))

using_kept : (k : AstType) (l : Label) (fs : Fields) → is_core_node k l fs ≡ true → using_here (node k l fs) ≡ false
using_kept VariableDeclaration l fs h = not_true _ h
using_kept _ l fs h = refl

none_using : (ts : Trees) → all_in_trees is_core_node ts ≡ true → using_in ts ≡ false
none_using empty h = refl
none_using (node k l fs before ts) h = rw (using_kept k l fs (and_left (is_core_node k l fs) (all_in_fields is_core_node fs) (and_left (all_nodes is_core_node (node k l fs)) (all_in_trees is_core_node ts) h)), none_using ts (and_right (all_nodes is_core_node (node k l fs)) (all_in_trees is_core_node ts) h))

program_kept : (w : World) (uses : Bool) (body : List Sense) → uses ≡ false → all_plain body ≡ true → Kept (gives_value (in_order w (cores body))) (program_sense w uses body)
program_kept w uses body u h = record { meaning = ap (λ (m : M Value). gives_value m) (begun_kept body (with_stack_where uses (in_order w (cores body))) h ∙ ap (λ (b : Bool). with_stack_where b (in_order w (cores body))) u); plain = refl }

first_plain : (es : List Sense) → all_plain es ≡ true → plain (first_more es) ≡ true
first_plain [] h = refl
first_plain (e ∷ es) h = and_left (plain e.more) (all_plain es) h

-- KINDS

kind_kept : (w : World) (ls : List Text) (x : Text) (k : AstType) (ts : List (Option Text)) (fs : List Bool) (block : Scope) (i : World) (ps : List Portion) → is_core_kind k ≡ true → is_word (codes "using") x ≡ false → block.uses ≡ false → plain_portions ps ≡ true →
    Kept (meaning_of w k ts fs (core_parts ps)) (sense_of (at_place w ls x) k ts fs block i (meaning_of w k ts fs (core_parts ps)) ps)
kind_kept w ls x Program ts fs block i (rows ds ∷ rows body ∷ []) h u v g = program_kept w block.uses body v (and_left (all_plain body) true (and_right (all_plain ds) (all_plain body && true) g))
kind_kept w ls x Program ts fs block i _ h u v g = record { meaning = refl; plain = refl }
kind_kept w ls x VariableDeclaration ts fs block i (rows ds ∷ []) h u v g = record { meaning = refl; plain = first_plain ds (and_left (all_plain ds) true g) }
kind_kept w ls x VariableDeclaration ts fs block i _ h u v g = record { meaning = refl; plain = refl }
kind_kept w ls x VariableDeclarator ts fs block i (alone id ∷ gap ∷ []) h u v g = record { meaning = refl; plain = refl }
kind_kept w ls x VariableDeclarator ts fs block i (alone id ∷ alone e ∷ []) h u v g = declarator_kept w ls x id.more id e _ u (and_left (plain id.more) (plain e.more && true) g)
kind_kept w ls x VariableDeclarator ts fs block i _ h u v g = record { meaning = refl; plain = refl }
kind_kept w ls x AssignmentExpression ts fs block i (alone l ∷ alone e ∷ []) h u v g = assignment_kept w (first_text ts) l.more e _ (and_left (plain l.more) (plain e.more && true) g)
kind_kept w ls x AssignmentExpression ts fs block i _ h u v g = record { meaning = refl; plain = refl }
kind_kept w ls x MemberExpression ts fs block i (alone o ∷ alone k ∷ []) h u v g = member_kept w ls x (flag fs) (flag_after fs) o k _ (and_left (plain o.more) (plain k.more && true) g)
kind_kept w ls x MemberExpression ts fs block i _ h u v g = record { meaning = refl; plain = refl }
kind_kept w ls x CallExpression ts fs block i (alone f ∷ rows es ∷ []) h u v g = call_sense_kept w ls x (flag fs) f es (and_left (plain f.more) (all_plain es && true) g) (and_left (all_plain es) true (and_right (plain f.more) (all_plain es && true) g))
kind_kept w ls x CallExpression ts fs block i _ h u v g = record { meaning = refl; plain = refl }
kind_kept w ls x Directive ts fs block i ps h u v g = record { meaning = refl; plain = refl }
kind_kept w ls x ExpressionStatement ts fs block i ps h u v g = record { meaning = refl; plain = refl }
kind_kept w ls x Identifier ts fs block i ps h u v g = record { meaning = refl; plain = refl }
kind_kept w ls x ThisExpression ts fs block i ps h u v g = record { meaning = refl; plain = refl }
kind_kept w ls x NullLiteral ts fs block i ps h u v g = record { meaning = refl; plain = refl }
kind_kept w ls x BooleanLiteral ts fs block i ps h u v g = record { meaning = refl; plain = refl }
kind_kept w ls x NumericLiteral ts fs block i ps h u v g = record { meaning = refl; plain = refl }
kind_kept w ls x BigIntLiteral ts fs block i ps h u v g = record { meaning = refl; plain = refl }
kind_kept w ls x StringLiteral ts fs block i ps h u v g = record { meaning = refl; plain = refl }
kind_kept w ls x UnaryExpression ts fs block i ps h u v g = record { meaning = refl; plain = refl }
kind_kept w ls x UpdateExpression ts fs block i ps h u v g = record { meaning = refl; plain = refl }
kind_kept w ls x BinaryExpression ts fs block i ps h u v g = record { meaning = refl; plain = refl }
kind_kept w ls x LogicalExpression ts fs block i ps h u v g = record { meaning = refl; plain = refl }
kind_kept w ls x ConditionalExpression ts fs block i ps h u v g = record { meaning = refl; plain = refl }
kind_kept w ls x SequenceExpression ts fs block i ps h u v g = record { meaning = refl; plain = refl }
kind_kept w ls x NewExpression ts fs block i ps h u v g = record { meaning = refl; plain = refl }
kind_kept w ls x ChainExpression ts fs block i ps h u v g = record { meaning = refl; plain = refl }
kind_kept w ls x ParenthesizedExpression ts fs block i ps h u v g = record { meaning = refl; plain = refl }
kind_kept w ls x _ ts fs block i ps h u v g = absurd (cc h)

-- TREES

pub record KeptAll (ms : List Meaning) (es : List Sense) : Type 0 where
  pub meanings : cores es ≡ ms
  pub plain : all_plain es ≡ true

pub record KeptPart (x : Part) (y : Portion) : Type 0 where
  pub part : core_part y ≡ x
  pub plain : plain_portion y ≡ true

pub record KeptParts (xs : List Part) (ys : List Portion) : Type 0 where
  pub parts : core_parts ys ≡ xs
  pub plain : plain_portions ys ≡ true

both_kept : (x : Part) (xs : List Part) (y : Portion) (ys : List Portion) → KeptPart x y → KeptParts xs ys → KeptParts (x ∷ xs) (y ∷ ys)
both_kept x xs y ys h g = record { parts = λ i. h.part i ∷ g.parts i; plain = rw (h.plain, g.plain) }

more_kept : (m : Meaning) (ms : List Meaning) (e : Sense) (es : List Sense) → Kept m e → KeptAll ms es → KeptAll (m ∷ ms) (e ∷ es)
more_kept m ms e es h g = record { meanings = λ i. h.meaning i ∷ g.meanings i; plain = rw (h.plain, g.plain) }

core_kind : (k : AstType) (l : Label) (fs : Fields) → is_core_node k l fs ≡ true → is_core_kind k ≡ true
core_kind VariableDeclaration l fs h = refl
core_kind _ l fs h = h

abbrev word_below : AstType → Text → Text
word_below VariableDeclaration t = t
word_below _ t = []

not_using : (k : AstType) (l : Label) (fs : Fields) → is_core_node k l fs ≡ true → is_word (codes "using") (word_below k (first_text l.texts)) ≡ false
not_using VariableDeclaration l fs h = not_true _ h
not_using _ l fs h = refl

inside_core : (w : World) (ls : List Text) (x : Text) (k : AstType) (ts : List (Option Text)) (ds : List Declared) (vs : List Text) → is_core_kind k ≡ true → inside (at_place w ls x) k ts ds vs ≡ (λ i. at_place w [] (word_below k (first_text ts)))
inside_core w ls x VariableDeclaration ts ds vs h = refl
inside_core w ls x Program ts ds vs h = refl
inside_core w ls x Directive ts ds vs h = refl
inside_core w ls x ExpressionStatement ts ds vs h = refl
inside_core w ls x VariableDeclarator ts ds vs h = refl
inside_core w ls x Identifier ts ds vs h = refl
inside_core w ls x ThisExpression ts ds vs h = refl
inside_core w ls x NullLiteral ts ds vs h = refl
inside_core w ls x BooleanLiteral ts ds vs h = refl
inside_core w ls x NumericLiteral ts ds vs h = refl
inside_core w ls x BigIntLiteral ts ds vs h = refl
inside_core w ls x StringLiteral ts ds vs h = refl
inside_core w ls x UnaryExpression ts ds vs h = refl
inside_core w ls x UpdateExpression ts ds vs h = refl
inside_core w ls x BinaryExpression ts ds vs h = refl
inside_core w ls x LogicalExpression ts ds vs h = refl
inside_core w ls x ConditionalExpression ts ds vs h = refl
inside_core w ls x AssignmentExpression ts ds vs h = refl
inside_core w ls x SequenceExpression ts ds vs h = refl
inside_core w ls x MemberExpression ts ds vs h = refl
inside_core w ls x CallExpression ts ds vs h = refl
inside_core w ls x NewExpression ts ds vs h = refl
inside_core w ls x ChainExpression ts ds vs h = refl
inside_core w ls x ParenthesizedExpression ts ds vs h = refl
inside_core w ls x _ ts ds vs h = absurd (cc h)

program_use : (fs : Fields) → all_in_fields is_core_node fs ≡ true → own_use Program fs ≡ false
program_use (f then (statements ts then fs)) h = none_using ts (and_left (all_in_trees is_core_node ts) (all_in_fields is_core_node fs) (and_right (all_in_field is_core_node f) (all_in_trees is_core_node ts && all_in_fields is_core_node fs) h))
program_use _ h = refl

no_use : (k : AstType) (fs : Fields) → is_core_kind k ≡ true → all_in_fields is_core_node fs ≡ true → own_use k fs ≡ false
no_use Program fs h g = program_use fs g
no_use BlockStatement fs h g = absurd (cc h)
no_use ForStatement fs h g = absurd (cc h)
no_use ForOfStatement fs h g = absurd (cc h)
no_use SwitchStatement fs h g = absurd (cc h)
no_use _ fs h g = refl

-- a node over core nodes means what its kind does
unspread : (t : Tree) → all_nodes is_core_node t ≡ true → is_spread_kind (kind_of t) ≡ false
unspread (node SpreadElement l fs) h = absurd (cc h)
unspread (node _ l fs) h = refl

unpatterned : (t : Tree) → all_nodes is_core_node t ≡ true → is_pattern (kind_of t) ≡ false
unpatterned (node ObjectTarget l fs) h = absurd (cc h)
unpatterned (node ArrayTarget l fs) h = absurd (cc h)
unpatterned (node TargetWithDefault l fs) h = absurd (cc h)
unpatterned (node ObjectPattern l fs) h = absurd (cc h)
unpatterned (node ArrayPattern l fs) h = absurd (cc h)
unpatterned (node AssignmentPattern l fs) h = absurd (cc h)
unpatterned (node _ l fs) h = refl

begins_plainly : (ts : Trees) → all_in_trees is_core_node ts ≡ true → begins_with_spread ts ≡ false
begins_plainly empty h = refl
begins_plainly (t before ts) h = unspread t (and_left (all_nodes is_core_node t) (all_in_trees is_core_node ts) h)

has_none : (ts : Trees) → all_in_trees is_core_node ts ≡ true → has_spread ts ≡ false
has_none empty h = refl
has_none (t before ts) h = rw (unspread t (and_left (all_nodes is_core_node t) (all_in_trees is_core_node ts) h)) (has_none ts (and_right (all_nodes is_core_node t) (all_in_trees is_core_node ts) h))

alone_beside : (s a b : Bool) → a ≡ false → b ≡ false → (ps : List Part) → first_formed (form_beside (s && a) (s && b)) ps ≡ ps
alone_beside s a b e d ps = rw (e, d, never s) (formed_alone ps)

core_means : (w : World) (k : AstType) (l : Label) (fs : Fields) → is_core_kind k ≡ true → all_in_fields is_core_node fs ≡ true → meaning w (node k l fs) ≡ meaning_of w k l.texts l.flags (parts w fs)
core_means w AssignmentExpression l (one t then fs) h g = assigns w l t fs (unpatterned t (and_left (all_nodes is_core_node t) (all_in_fields is_core_node fs) g))
core_means w CallExpression l (f then (many ts then fs)) h g =
    let below = and_left (all_in_trees is_core_node ts) (all_in_fields is_core_node fs) (and_right (all_in_field is_core_node f) (all_in_trees is_core_node ts && all_in_fields is_core_node fs) g) in
    ap (λ (ps : List Part). meaning_of w CallExpression l.texts l.flags ps) (alone_beside w.spreads (begins_with_spread ts) (has_spread ts) (begins_plainly ts below) (has_none ts below) (parts w (f then (many ts then fs))))
core_means w AssignmentExpression l _ h g = refl
core_means w CallExpression l _ h g = refl
core_means w Program l fs h g = refl
core_means w Directive l fs h g = refl
core_means w ExpressionStatement l fs h g = refl
core_means w VariableDeclaration l fs h g = refl
core_means w VariableDeclarator l fs h g = refl
core_means w Identifier l fs h g = refl
core_means w ThisExpression l fs h g = refl
core_means w NullLiteral l fs h g = refl
core_means w BooleanLiteral l fs h g = refl
core_means w NumericLiteral l fs h g = refl
core_means w BigIntLiteral l fs h g = refl
core_means w StringLiteral l fs h g = refl
core_means w UnaryExpression l fs h g = refl
core_means w UpdateExpression l fs h g = refl
core_means w BinaryExpression l fs h g = refl
core_means w LogicalExpression l fs h g = refl
core_means w ConditionalExpression l fs h g = refl
core_means w SequenceExpression l fs h g = refl
core_means w MemberExpression l fs h g = refl
core_means w NewExpression l fs h g = refl
core_means w ChainExpression l fs h g = refl
core_means w ParenthesizedExpression l fs h g = refl
core_means w _ l fs h g = absurd (cc h)

mutual
  pub tree_kept : (w : World) (ls : List Text) (x : Text) (t : Tree) → is_word (codes "using") x ≡ false → all_nodes is_core_node t ≡ true → Kept (meaning w t) (sense (at_place w ls x) t)
  tree_kept w ls x (node k l fs) u h =
      let here : is_core_node k l fs ≡ true = and_left (is_core_node k l fs) (all_in_fields is_core_node fs) h in
      let below_here : all_in_fields is_core_node fs ≡ true = and_right (is_core_node k l fs) (all_in_fields is_core_node fs) h in
      let kind : is_core_kind k ≡ true = core_kind k l fs here in
      let e : inside (at_place w ls x) k l.texts (own_names k fs) (label_in k fs) ≡ (λ i. at_place w [] (word_below k (first_text l.texts))) = inside_core w ls x k l.texts (own_names k fs) (label_in k fs) kind in
      let g : KeptParts (parts w fs) (portions (λ i. at_place w [] (word_below k (first_text l.texts))) fs) = fields_kept w [] (word_below k (first_text l.texts)) fs (not_using k l fs here) below_here in
      let all : plain_portions (portions (inside (at_place w ls x) k l.texts (own_names k fs) (label_in k fs)) fs) ≡ true = ap (λ (at : ℕ → Place). plain_portions (portions at fs)) e ∙ g.plain in
      let found : Kept (meaning_of w k l.texts l.flags (core_parts (portions (inside (at_place w ls x) k l.texts (own_names k fs) (label_in k fs)) fs))) (sense (at_place w ls x) (node k l fs)) = kind_kept w ls x k l.texts l.flags (scope_by (own_names k fs) (own_use k fs)) (inside (at_place w ls x) k l.texts (own_names k fs) (label_in k fs) 1).world (portions (inside (at_place w ls x) k l.texts (own_names k fs) (label_in k fs)) fs) kind u (no_use k fs kind below_here) all in
      record { meaning = found.meaning ∙ (ap (λ (at : ℕ → Place). meaning_of w k l.texts l.flags (core_parts (portions at fs))) e ∙ ap (λ (ps : List Part). meaning_of w k l.texts l.flags ps) g.parts) ∙ sym (core_means w k l fs kind below_here); plain = found.plain }

  fields_kept : (w : World) (ls : List Text) (x : Text) (fs : Fields) → is_word (codes "using") x ≡ false → all_in_fields is_core_node fs ≡ true → KeptParts (parts w fs) (portions (λ i. at_place w ls x) fs)
  fields_kept w ls x done u h = record { parts = refl; plain = refl }
  fields_kept w ls x (f then fs) u h = both_kept _ _ _ _ (field_kept w ls x f u (and_left (all_in_field is_core_node f) (all_in_fields is_core_node fs) h)) (fields_kept w ls x fs u (and_right (all_in_field is_core_node f) (all_in_fields is_core_node fs) h))

  field_kept : (w : World) (ls : List Text) (x : Text) (f : Field) → is_word (codes "using") x ≡ false → all_in_field is_core_node f ≡ true → KeptPart (part w f) (portion (at_place w ls x) f)
  field_kept w ls x missing u h = record { part = refl; plain = refl }
  field_kept w ls x (one t) u h = let g = tree_kept w ls x t u h in record { part = ap single g.meaning; plain = g.plain }
  field_kept w ls x (many ts) u h = let g = trees_kept w ls x ts u h in record { part = ap several g.meanings; plain = g.plain }
  field_kept w ls x (statements ts) u h = let g = trees_kept w ls x ts u h in record { part = ap several g.meanings; plain = g.plain }

  trees_kept : (w : World) (ls : List Text) (x : Text) (ts : Trees) → is_word (codes "using") x ≡ false → all_in_trees is_core_node ts ≡ true → KeptAll (meanings w ts) (senses (at_place w ls x) ts)
  trees_kept w ls x empty u h = record { meanings = refl; plain = refl }
  trees_kept w ls x (t before ts) u h = more_kept _ _ _ _ (tree_kept w ls x t u (and_left (all_nodes is_core_node t) (all_in_trees is_core_node ts) h)) (trees_kept w ls x ts u (and_right (all_nodes is_core_node t) (all_in_trees is_core_node ts) h))

pub core_meaning : (w : World) (t : Tree) → all_nodes is_core_node t ≡ true → (sense (quiet_place w) t).core ≡ meaning w t
core_meaning w t h = (tree_kept w [] [] t refl h).meaning
