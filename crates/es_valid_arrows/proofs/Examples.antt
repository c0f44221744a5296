-- The examples of arrows hold.
use Rattle.std.proofs.Common.{◌≡◌, refl, sym, ap, subst, inl, inr}
use Rattle.std.specs.Prelude.{◌&&◌, ◌||◌, [], ◌∷◌, Bool, true, false, Some, codes}
use Rattle.std.proofs.lemmas.Bool.{or_from}
use Rattle.es_tree.specs.Tree.{Tree, node, done, ◌then◌, one, label_of, trees}
use Rattle.es_tree.specs.Words.{Text}
use Rattle.es_tree.specs.declared.ast_type.AstType.TheVariants.{LogicalExpression, MemberExpression, NumericLiteral, Super, ThisExpression}
use Rattle.es_tree.specs.Fresh.{IsFreshName, text_base}
use Rattle.es_tree.specs.declared.options.EnvOptions.{EnvOptions}
use Rattle.es_runs.specs.Rules.{member_node}
use Rattle.es_resolution.specs.Declarations.{Bound}
use Rattle.es_steps.specs.Arrows.{ArrowRule, by_new_name, with_body, with_expression}
use Rattle.es_steps.specs.CoreRules.{where_on}
use Rattle.es_steps.specs.Laws.{nothing_beside}
use Rattle.es_steps.specs.Nodes.{arrow_node, body_node, identifier, made, return_node, statement_node, this_expression, this_statement, word}
use Rattle.es_steps.specs.Open.{opened}
use Rattle.es_steps.specs.Rules.{either_rule, with_made, all_pending}
use Rattle.es_steps.specs.Steps.{Whole, Ledger, Site, Spot, the_program, IsExpression, Step, acts, inside, in_first, in_later, in_child, in_body, in_list, in_program, acts_on_list, in_head, Steps, stays, goes}
use Rattle.es_steps.specs.Slots.{holds}
use Rattle.es_steps.specs.WrapRule.{is_wrapped_for}
use Rattle.es_valid_steps.specs.Laws.{with_further_rules}
use Rattle.es_conditions.proofs.Unwrapped.{name-holds, no-nullish, two-hold-none, unwrapped}
use Rattle.es_valid_arrows.specs.ArrowPlaces.{fits_arrows}
use Rattle.es_valid_arrows.specs.Examples.{LawArrowExamples, Becomes, WhereFresh, named_this, with_name, short_arrow, long_arrow, class_with, function_of, one_number, or_one, parameter_with, script, super_member, this_member}
use Rattle.es_valid_arrows.proofs.Fits.{ArrowsFit, from-fits}

-- STEPS

abbrev Ruled : EnvOptions → Site → Ledger → Spot → Ledger → Spot → Type 0
Ruled o = either_rule (with_further_rules o) ArrowRule

abbrev Run : EnvOptions → Whole → Tree → Type 0
Run o w p = Steps (Step (Ruled o) the_program) (nothing_beside w) (opened p) (nothing_beside (with_made (named_this w ∷ []) w)) (opened (with_name w))

this-expression : IsExpression this_expression
this-expression = record { no_body = refl; no_import = refl; declares_nothing = λ v. refl }

name-expression : (b : Bound) → IsExpression (identifier b)
name-expression b = record { no_body = refl; no_import = refl; declares_nothing = λ v. refl }

short-steps : (o : EnvOptions) (w : Whole) → IsFreshName w.in_use (text_base (codes "this")) (codes "_this") → Run o w (short_arrow this_expression)
short-steps o w f =
    goes (inside (in_later (in_first (in_program refl (in_head (inside (in_first (in_child (inside (in_later (in_first (in_body refl this-expression (name-expression (named_this w)) (acts this_expression (identifier (named_this w)) (inr (by_new_name refl refl refl f)))))))))))))))
    (goes (inside (in_later (in_first (in_program refl (in_head (inside (in_first (in_child (acts (arrow_node (identifier (named_this w))) (function_of [] (return_node (identifier (named_this w)) ∷ [])) (inr (with_expression (name-expression (named_this w)) refl)))))))))))
    (goes (inside (in_later (in_first (acts_on_list (trees (statement_node (function_of [] (return_node (identifier (named_this w)) ∷ [])) ∷ [])) (trees (this_statement (named_this w) ∷ statement_node (function_of [] (return_node (identifier (named_this w)) ∷ [])) ∷ [])) (inl (inl (inl all_pending)))))))
    stays))

long-steps : (o : EnvOptions) (w : Whole) → IsFreshName w.in_use (text_base (codes "this")) (codes "_this") → Run o w (long_arrow this_expression)
long-steps o w f =
    goes (inside (in_later (in_first (in_program refl (in_head (inside (in_first (in_child (inside (in_later (in_first (in_child (inside (in_later (in_first (in_list refl refl (in_head (inside (in_first (in_child (acts this_expression (identifier (named_this w)) (inr (by_new_name refl refl refl f)))))))))))))))))))))))
    (goes (inside (in_later (in_first (in_program refl (in_head (inside (in_first (in_child (acts (arrow_node (body_node (trees (return_node (identifier (named_this w)) ∷ [])))) (function_of [] (return_node (identifier (named_this w)) ∷ [])) (inr (with_body refl)))))))))))
    (goes (inside (in_later (in_first (acts_on_list (trees (statement_node (function_of [] (return_node (identifier (named_this w)) ∷ [])) ∷ [])) (trees (this_statement (named_this w) ∷ statement_node (function_of [] (return_node (identifier (named_this w)) ∷ [])) ∷ [])) (inl (inl (inl all_pending)))))))
    stays))

becomes : (o : EnvOptions) (w : Whole) (p : Tree) → (IsFreshName w.in_use (text_base (codes "this")) (codes "_this") → Run o w p) → WhereFresh o w (Becomes o w p (with_name w))
becomes o w p run on f = record {
  left = with_made (named_this w ∷ []) w;
  steps = subst (λ (b : Bool). Steps (Step (either_rule (with_further_rules o) (where_on b ArrowRule)) the_program) (nothing_beside w) (opened p) (nothing_beside (with_made (named_this w ∷ []) w)) (opened (with_name w))) (sym on) (run f);
  kept = refl;
}

-- WHAT SLOTS ARE WRAPPED FOR

member-none : (o : EnvOptions) (e : Tree) (x : Text) → holds (is_wrapped_for o) e ≡ false → holds (is_wrapped_for o) (member_node false e (word x)) ≡ false
member-none o e x h =
    let l = made [] (false ∷ false ∷ []) in
    let fs = one e then one (word x) then done in
    two-hold-none (is_wrapped_for o MemberExpression l fs) (holds (is_wrapped_for o) e) (holds (is_wrapped_for o) (word x)) (unwrapped o MemberExpression l fs (no-nullish o) refl refl refl refl) h (name-holds o (label_of (word x)))

super-none : (o : EnvOptions) → holds (is_wrapped_for o) super_member ≡ false
super-none o = member-none o (node Super (made [] []) done) (codes "x") (or_from (is_wrapped_for o Super (made [] []) done) false (unwrapped o Super (made [] []) done (no-nullish o) refl refl refl refl) refl)

this-none : (o : EnvOptions) → holds (is_wrapped_for o) this_member ≡ false
this-none o = member-none o this_expression (codes "b") (or_from (is_wrapped_for o ThisExpression (made [] []) done) false (unwrapped o ThisExpression (made [] []) done (no-nullish o) refl refl refl refl) refl)

or-none : (o : EnvOptions) (e : Tree) → o.es2020.nullish_coalescing_operator ≡ false → holds (is_wrapped_for o) e ≡ false → holds (is_wrapped_for o) (or_one e) ≡ false
or-none o e off h =
    let l = made (Some (codes "??") ∷ []) [] in
    let fs = one e then one one_number then done in
    let m = made (Some (codes "1") ∷ Some (codes "1") ∷ []) [] in
    let number : holds (is_wrapped_for o) one_number ≡ false = or_from (is_wrapped_for o NumericLiteral m done) false (unwrapped o NumericLiteral m done (no-nullish o) refl refl refl refl) refl in
    two-hold-none (is_wrapped_for o LogicalExpression l fs) (holds (is_wrapped_for o) e) (holds (is_wrapped_for o) one_number) (unwrapped o LogicalExpression l fs (ap (λ b. b && true) off) refl refl refl refl) h number

-- a parameter with a default value for which no slot is wrapped
method-fits : (o : EnvOptions) (e : Tree) → holds (is_wrapped_for o) e ≡ false → ArrowsFit o false false false e → fits_arrows o (script (class_with (parameter_with e ∷ []) [] ∷ [])) ≡ true
method-fits o e none f = from-fits o false false true (script (class_with (parameter_with e ∷ []) [] ∷ []))
    (refl, (tt, (((refl, ((refl, tt), (tt, (((refl, ((refl, tt), ((refl, (tt, (((refl, ((refl, tt), (held none f, tt))), tt), ((refl, (tt, (tt, tt))), tt)))), tt))), tt), tt)))), tt), tt)))
  where
    held : {b : Bool} → b ≡ false → ArrowsFit o false false false e → ArrowsFit o (b || false) false false e
    held d g = subst (λ (x : Bool). ArrowsFit o (x || false) false false e) (sym d) g

function-fits : (o : EnvOptions) (e : Tree) → holds (is_wrapped_for o) e ≡ false → ArrowsFit o false false false e → fits_arrows o (script (statement_node (function_of (parameter_with e ∷ []) []) ∷ [])) ≡ true
function-fits o e none f = from-fits o false false true (script (statement_node (function_of (parameter_with e ∷ []) []) ∷ []))
    (refl, (tt, (((refl, ((refl, (tt, (((refl, ((refl, tt), (held none f, tt))), tt), ((refl, (tt, (tt, tt))), tt)))), tt)), tt), tt)))
  where
    held : {b : Bool} → b ≡ false → ArrowsFit o false false false e → ArrowsFit o (b || false) false false e
    held d g = subst (λ (x : Bool). ArrowsFit o (x || false) false false e) (sym d) g

pub law_arrow_examples_proof : LawArrowExamples
law_arrow_examples_proof = record {
  short = λ o w. becomes o w (short_arrow this_expression) (short-steps o w);
  long = λ o w. becomes o w (long_arrow this_expression) (long-steps o w);
  beside = record { program = record { formed = refl; kept = refl }; fits = λ o. refl };
  in_method = record { program = record { formed = refl; kept = refl }; fits = λ o. refl };
  this_alone = record { program = record { formed = refl; kept = refl }; fits = λ o. refl };
  super_word = record { program = record { formed = refl; kept = refl }; unfit = λ o. refl; formed = refl; broken = refl };
  deleted_this = record { program = record { formed = refl; kept = refl }; unfit = λ o. refl; formed = refl; broken = refl };
  accessor = record { program = record { formed = refl; kept = refl }; unfit = λ o. refl; formed = refl; broken = refl };
  slot = record { program = record { formed = refl; kept = refl }; fits = λ o. method-fits o super_member (super-none o) (refl, ((refl, tt), ((refl, tt), tt))) };
  wrapped_slot = record { program = record { formed = refl; kept = refl }; fits = λ o e. method-fits o (or_one super_member) (or-none o super_member e (super-none o)) (refl, ((refl, ((refl, tt), ((refl, tt), tt))), ((refl, tt), tt))); unfit = λ o e. rw e refl };
  wrapped_this = record { program = record { formed = refl; kept = refl }; fits = λ o e. function-fits o (or_one this_member) (or-none o this_member e (this-none o)) (refl, ((refl, ((refl, tt), ((refl, tt), tt))), ((refl, tt), tt))); unfit = λ o e. rw e refl };
}
