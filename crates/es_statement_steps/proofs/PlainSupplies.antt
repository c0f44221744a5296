-- Members and assignments where a program gets no helper but that of object spread: they mean what they mean in the core.
use Rattle.std.proofs.Common.{◌≡◌, refl}
use Rattle.std.proofs.lemmas.Bool.{and_right}
use Rattle.std.specs.Prelude.{Bool, true, false, ◌&&◌, List, [], codes, if◌then◌else◌}
use Rattle.es_tree.specs.Parens.{without_parens}
use Rattle.es_tree.specs.Tree.{Tree, node, Label, done, ◌then◌, missing, one, many, statements}
use Rattle.es_tree.specs.Words.{Text}
use Rattle.es_tree.specs.declared.ast_type.AstType.TheVariants.{MemberExpression, ParenthesizedExpression}
use Rattle.es_runs.specs.Core.{AssignClass, Binding, Form, Meaning, World, assign_class, assignment, flag, flag_after, member, name, put_value, value}
use Rattle.es_runs.specs.Core.AssignClass.{logically}
use Rattle.es_runs.specs.Core.Form.{word}
use Rattle.es_runs.specs.Core.Reference.{named}
use Rattle.es_runs.specs.Machine.{State, onward}
use Rattle.es_runs.specs.Rules.{assign_node}
use Rattle.es_runs.specs.Runs.{identifier}
use Rattle.es_runs.proofs.Stripped.{single_parens}
use Rattle.es_runs.proofs.Temporary.{plain_again}
use Rattle.es_statement_runs.specs.Calls.{assignment_by, is_spread, is_global, member_by, member_sense, named_member, static_member}
use Rattle.es_statement_runs.specs.Helpers.{Supply, is_helper_text, silent_names}
use Rattle.es_statement_runs.specs.Helpers.Supply.{no_helpers, spread_by_global}
use Rattle.es_statement_runs.specs.Kinds.{sense}
use Rattle.es_statement_runs.specs.Names.{is_word}
use Rattle.es_statement_runs.specs.Places.{placed_at}
use Rattle.es_statement_runs.specs.Senses.{More, Sense, plain_sense, said_in}
use Rattle.es_statement_runs.specs.Senses.More.{aims, helper_call, keys_of, maps, nothing_more, stack_member}

-- what an expression means
abbrev pub core : Supply → World → Tree → Meaning
core u w t = (sense (placed_at u w [] []) t).core

-- no helpers, or that of object spread alone
abbrev pub is_core_supply : Supply → Bool
is_core_supply no_helpers = true
is_core_supply spread_by_global = true
is_core_supply _ = false

-- no name stands for one then
pub none-silent : (u : Supply) → is_core_supply u ≡ true → (p : Tree) → silent_names u p ≡ []
none-silent no_helpers h p = refl
none-silent spread_by_global h p = refl
none-silent _ h p = absurd (cc h)

-- neither a pattern nor a member of a stack
abbrev pub is_core_target : More → Bool
is_core_target (aims m) = false
is_core_target (stack_member x m) = false
is_core_target _ = true

-- a sense that means this, and is no other target
pub record Plainly (m : Meaning) (e : Sense) : Type 0 where
  pub core : e.core ≡ m
  pub target : is_core_target e.more ≡ true

-- ASSIGNMENTS

pub assignment-plain : (w : World) (op : Text) (l : More) (e : Sense) (m : Meaning) → is_core_target l ≡ true → assignment_by w op l e m ≡ plain_sense m
assignment-plain w op (aims t) e m h = absurd (cc h)
assignment-plain w op (stack_member x t) e m h = absurd (cc h)
assignment-plain w op _ e m h = refl

-- with another operator than `=` it is the core's, whatever its target is
pub other-assignment : (w : World) (op : Text) (l : More) (e : Sense) (m : Meaning) → is_word (codes "=") op ≡ false → assignment_by w op l e m ≡ plain_sense m
other-assignment w op (aims t) e m h = rw h refl
other-assignment w op (stack_member x t) e m h = rw h refl
other-assignment w op _ e m h = refl

unequal : (b : Bool) (c : AssignClass) → (if b then AssignClass.plainly else c) ≡ logically → b ≡ false
unequal true c h = absurd (cc h)
unequal false c h = refl

pub logical-unequal : (op : Text) → assign_class op ≡ logically → is_word (codes "=") op ≡ false
logical-unequal op h = unequal (is_word (codes "=") op) _ h

-- MEMBERS

either : (b : Bool) {m : Meaning} {e d : Sense} → Plainly m e → Plainly m d → Plainly m (if b then e else d)
either true h g = h
either false h g = g

spread-or-nothing : (b : Bool) (x : Text) → is_core_target (if b then helper_call x else nothing_more) ≡ true
spread-or-nothing true x = refl
spread-or-nothing false x = refl

maps-or-nothing : (b : Bool) (ks : _) → is_core_target (if b then maps ks else nothing_more) ≡ true
maps-or-nothing true ks = refl
maps-or-nothing false ks = refl

module _ (w : World) (ls : List Text) (x : Text) where
  static-plainly : (u : Supply) → is_core_supply u ≡ true → (y : Text) (m : Meaning) → Plainly m (static_member (placed_at u w ls x) y m)
  static-plainly no_helpers h y m = record { core = refl; target = refl }
  static-plainly spread_by_global h y m = record { core = refl; target = refl }
  static-plainly _ h y m = absurd (cc h)

  named-plainly : (u : Supply) → is_core_supply u ≡ true → (o y : Text) (m : Meaning) → Plainly m (named_member (placed_at u w ls x) o y m)
  named-plainly no_helpers h o y m = rw (and_right (is_helper_text y) false refl) (static-plainly no_helpers h y m)
  named-plainly spread_by_global h o y m = either (is_helper_text y && is_global w spread_by_global o) (record { core = refl; target = spread-or-nothing (is_word (codes "objectSpread2") y) y }) (static-plainly spread_by_global h y m)
  named-plainly _ h o y m = absurd (cc h)

  module _ (u : Supply) (core : is_core_supply u ≡ true) where
    member-by-plainly : (e : More) (f g : Form) (m : Meaning) → Plainly m (member_by (placed_at u w ls x) e f g m)
    member-by-plainly (keys_of ks) f (word y) m = record { core = refl; target = maps-or-nothing (is_word (codes "map") y) ks }
    member-by-plainly _ (word o) (word y) m = named-plainly u core o y m
    member-by-plainly _ _ (word y) m = static-plainly u core y m
    member-by-plainly _ _ _ m = record { core = refl; target = refl }

    pub member-plainly : (a b : Bool) (o k : Sense) (m : Meaning) → Plainly m (member_sense (placed_at u w ls x) a b o k m)
    member-plainly false false o k m = member-by-plainly o.more o.core.form k.core.form m
    member-plainly false true o k m = record { core = refl; target = refl }
    member-plainly true b o k m = record { core = refl; target = refl }

-- what a member means
pub member-core : (u : Supply) → is_core_supply u ≡ true → (w : World) (l : Label) (o k : Tree) → core u w (node MemberExpression l (one o then (one k then done))) ≡ member w (flag l.flags) (flag_after l.flags) (core u w o) (core u w k)
member-core u h w l o k = (member-plainly w [] [] u h (flag l.flags) (flag_after l.flags) (sense (placed_at u w [] []) o) (sense (placed_at u w [] []) k) (member w (flag l.flags) (flag_after l.flags) (core u w o) (core u w k))).core

-- PARENTHESES: what stands in them has the same reference

pub stripped-sense : (u : Supply) (w : World) (t : Tree) → single_parens t ≡ true → (sense (placed_at u w [] []) t).core.reference ≡ (sense (placed_at u w [] []) (without_parens t)).core.reference
stripped-sense u w (node ParenthesizedExpression l (one t then done)) h = stripped-sense u w t h
stripped-sense u w (node ParenthesizedExpression l (one t then (f then fs))) h = absurd (cc h)
stripped-sense u w (node ParenthesizedExpression l (missing then fs)) h = refl
stripped-sense u w (node ParenthesizedExpression l (many ts then fs)) h = refl
stripped-sense u w (node ParenthesizedExpression l (statements ts then fs)) h = refl
stripped-sense u w (node ParenthesizedExpression l done) h = refl
stripped-sense u w (node _ l fs) h = refl

-- NAMES

pub said-target : (u : Supply) → is_core_supply u ≡ true → (b : Binding) → is_core_target (said_in u b) ≡ true
said-target no_helpers h b = refl
said-target spread_by_global h b = refl
said-target _ h b = absurd (cc h)

pub said-unspread : (u : Supply) → is_core_supply u ≡ true → (b : Binding) → is_spread (said_in u b) ≡ false
said-unspread no_helpers h b = refl
said-unspread spread_by_global h b = refl
said-unspread _ h b = absurd (cc h)

-- an assignment to a temporary
pub stores : (u : Supply) → is_core_supply u ≡ true → (v : World) (x : Text) (e : Tree) (z : State) → value v (core u v (assign_node (identifier x) e)) z ≡ onward (value v (core u v e) z) (put_value v (named x))
stores u h v x e z = rw (assignment-plain v (codes "=") (said_in u (v.scope x)) (sense (placed_at u v [] []) e) (assignment v (codes "=") (name x) (core u v e)) (said-target u h (v.scope x))) (plain_again v (onward (value v (core u v e) z) (put_value v (named x))))
