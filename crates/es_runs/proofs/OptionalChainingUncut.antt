-- In what a spine becomes no optional mark strays.
use Rattle.std.proofs.Common.{◌≡◌, refl, List, [], ◌∷◌, ◌++◌}
use Rattle.std.specs.Prelude.{Bool, true, false, ◌||◌, ◌&&◌}
use Rattle.es_tree.specs.Words.{Text}
use Rattle.es_tree.specs.Parens.{without_parens}
use Rattle.es_tree.specs.Tree.{Tree, node, Label, done, ◌then◌, missing, one, many, statements, Trees}
use Rattle.es_tree.specs.declared.ast_type.AstType.TheVariants.{MemberExpression, CallExpression, ParenthesizedExpression}
use Rattle.es_runs.specs.Core.{flag, flag_after}
use Rattle.es_runs.specs.OptionalChaining.{call_at, is_link, member_at, null_checks}
use Rattle.es_runs.specs.Rules.{assign_node, strays, strays_fields, strays_nodes}
use Rattle.es_runs.specs.Runs.{identifier}
use Rattle.es_runs.proofs.Fresh.{or_left, or_right}
use Rattle.es_runs.proofs.Named.{or_both}

-- in none of these a mark strays
abbrev pub AllTidy : List Tree → Type 0
AllTidy [] = Unit {0}
AllTidy (t ∷ ts) = (strays false t ≡ false) × AllTidy ts

pub tidy_more : (ts us : List Tree) → AllTidy ts → AllTidy us → AllTidy (ts ++ us)
tidy_more [] us h g = g
tidy_more (t ∷ ts) us h g = (h.0, tidy_more ts us h.1 g)

pub tidy_tests : (no_all : Bool) (e again : Tree) → strays false e ≡ false → strays false again ≡ false → AllTidy (null_checks no_all e again)
tidy_tests true e again h g = (or_both (strays false e) false h refl, tt)
tidy_tests false e again h g = (or_both (strays false e) false h refl, (or_both (strays false again) false g refl, tt))

pub tidy_store : (x : Text) (e : Tree) → strays false e ≡ false → strays false (assign_node (identifier x) e) ≡ false
tidy_store x e h = or_both (strays false e) false h refl

pub tidy_stripped : (t : Tree) → strays false t ≡ false → strays false (without_parens t) ≡ false
tidy_stripped (node ParenthesizedExpression l (one t then fs)) h = tidy_stripped t (or_left (strays false t) (strays_fields false fs) h)
tidy_stripped (node ParenthesizedExpression l (missing then fs)) h = h
tidy_stripped (node ParenthesizedExpression l (many ts then fs)) h = h
tidy_stripped (node ParenthesizedExpression l (statements ts then fs)) h = h
tidy_stripped (node ParenthesizedExpression l done) h = h
tidy_stripped (node _ l fs) h = h

-- off a spine as on it, for what is no step of one
pub tidy_base : (e : Tree) → is_link e ≡ false → strays true e ≡ false → strays false e ≡ false
tidy_base (node MemberExpression l fs) e h = absurd (cc e)
tidy_base (node CallExpression l fs) e h = absurd (cc e)
tidy_base (node _ l fs) e h = h

-- the parts of a step on a spine
pub tidy_object : (l : Label) (o p : Tree) → strays true (node MemberExpression l (one o then one p then done)) ≡ false → strays true o ≡ false
tidy_object l o p h = or_left (strays true o) (strays false p || false) (or_right (flag_after l.flags && false) (strays true o || (strays false p || false)) h)

pub tidy_key : (l : Label) (o p : Tree) → strays true (node MemberExpression l (one o then one p then done)) ≡ false → strays false p ≡ false
tidy_key l o p h = or_left (strays false p) false (or_right (strays true o) (strays false p || false) (or_right (flag_after l.flags && false) (strays true o || (strays false p || false)) h))

pub tidy_callee : (l : Label) (f : Tree) (ts : Trees) → strays true (node CallExpression l (one f then many ts then done)) ≡ false → strays true f ≡ false
tidy_callee l f ts h = or_left (strays true f) (strays_nodes false ts || false) (or_right (flag l.flags && false) (strays true f || (strays_nodes false ts || false)) h)

pub tidy_arguments : (l : Label) (f : Tree) (ts : Trees) → strays true (node CallExpression l (one f then many ts then done)) ≡ false → strays_nodes false ts ≡ false
tidy_arguments l f ts h = or_left (strays_nodes false ts) false (or_right (strays true f) (strays_nodes false ts || false) (or_right (flag l.flags && false) (strays true f || (strays_nodes false ts || false)) h))

-- a step without a mark
pub tidy_member : (l : Label) (computed : Bool) (o p : Tree) → strays false o ≡ false → strays false p ≡ false → strays false (member_at l computed o p) ≡ false
tidy_member l computed o p h g = or_both (strays false o) (strays false p || false) h (or_both (strays false p) false g refl)

pub tidy_call : (l : Label) (f : Tree) (ts : Trees) → strays false f ≡ false → strays_nodes false ts ≡ false → strays false (call_at l f ts) ≡ false
tidy_call l f ts h g = or_both (strays false f) (strays_nodes false ts || false) h (or_both (strays_nodes false ts) false g refl)
