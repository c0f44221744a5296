-- Steps that are taken: in `function f({ a, ...b } = c) { a; }` the pattern moves into the body, and there its rest gets a
-- declarator of its own.
use Rattle.std.proofs.Common.{arith, ◌<◌, ◌≡◌, ℕ, inl, inr, refl, [], ◌∷◌}
use Rattle.std.specs.Prelude.{Bool, true, false, Some, None, codes, ◌==◌, if◌then◌else◌}
use Rattle.es_tree.specs.Words.{Text}
use Rattle.es_tree.specs.Fresh.{IsFreshName, also, is_among}
use Rattle.es_tree.specs.Names.{names_of}
use Rattle.es_tree.specs.Tree.{Tree, node, Fields, done, ◌then◌, one, many, statements, Trees, empty, ◌before◌}
use Rattle.es_tree.specs.declared.ast_type.AstType.TheVariants.{Program, FunctionDeclaration, FunctionBody, ExpressionStatement, AssignmentPattern, ObjectPattern, PatternProperty, RestElement, VariableDeclaration}
use Rattle.es_semantic.specs.RolesOf.{reads}
use Rattle.es_resolution.specs.Declarations.{Bound, declared}
use Rattle.es_steps.specs.Nodes.{made, identifier, word, declarator_with}
use Rattle.es_steps.specs.Open.{no_additions, nothing_pending, opened}
use Rattle.es_resolution.specs.Resolved.{IsResolved}
use Rattle.es_steps.specs.Steps.{Whole, the_program, Step, Steps}
use Rattle.es_steps.specs.Steps.Ledger.{ledger}
use Rattle.es_steps.specs.Steps.Step.{acts, inside}
use Rattle.es_steps.specs.Steps.FieldsStep.{in_first, in_later}
use Rattle.es_steps.specs.Steps.FieldStep.{in_child, in_program, in_target}
use Rattle.es_steps.specs.Steps.TreesStep.{in_head}
use Rattle.es_steps.specs.Steps.Steps.{stays, goes}
use Rattle.es_steps.specs.Rules.{with_made}
use Rattle.es_steps.specs.ParameterPatterns.{MayMove, body_fields}
use Rattle.es_steps.specs.Rules.{next_name}
use Rattle.es_steps.specs.Patterns.{let_statement}
use Rattle.es_steps.specs.ParameterPatterns.HoldsPattern.{with_default}
use Rattle.es_steps.specs.ParameterPatterns.IsFunctionName.{named}
use Rattle.es_steps.specs.ParameterPatterns.MovesParameter.{moves_one}
use Rattle.es_steps.specs.ParameterPatterns.ParameterRest.{in_declaration}
use Rattle.es_steps.specs.ObjectRest.{rest_value}
use Rattle.es_steps.specs.ObjectRest.RestOf.{beside}
use Rattle.es_steps.specs.ObjectRest.TakesRest.{takes_rest}
use Rattle.es_steps.specs.AllRules.{RestRule}
use Rattle.es_steps.proofs.Checked.{is_resolved-sound}

abbrev name : Text → ℕ → Tree
name x s = identifier (record { name = x; symbol = Some s })

abbrev a_property : Tree
a_property = node PatternProperty (made [] (false ∷ false ∷ [])) (one (word (codes "a")) then one (name (codes "a") 1) then done)

abbrev the_rest : Tree
the_rest = node RestElement (made [] []) (one (name (codes "b") 2) then done)

abbrev pattern_fields : Fields
pattern_fields = many (a_property before the_rest before empty) then done

abbrev pattern : Tree
pattern = node ObjectPattern (made [] []) pattern_fields

abbrev reads_a : Trees
reads_a = node ExpressionStatement (made [] []) (one (name (codes "a") 1) then done) before empty

abbrev defaulted : Tree → Tree
defaulted p = node AssignmentPattern (made [] []) (one p then one (word (codes "c")) then done)

abbrev function_node : Tree → Trees → Tree
function_node p ts = node FunctionDeclaration (made [] (false ∷ false ∷ [])) (one (name (codes "f") 0) then many (p before empty) then one (node FunctionBody (made [] []) (body_fields empty ts)) then done)

abbrev program : Tree → Tree
program t = node Program (made (Some (codes "script") ∷ []) []) (many empty then statements (t before empty) then done)

abbrev source : Tree
source = function_node (defaulted pattern) reads_a

abbrev first_names : ℕ → Text
first_names s = if s == 0 then codes "f" else if s == 1 then codes "a" else codes "b"

abbrev first_whole : Whole
first_whole = record { in_use = also (codes "babelHelpers") (is_among (names_of (program source))); steady = λ s. true; free_symbol = 3; called = first_names; made = [] }

abbrev it : Bound
it = next_name first_whole (codes "_ref")

abbrev moved : Tree
moved = function_node (defaulted (identifier it)) (let_statement pattern it before reads_a)

abbrev the_split : Tree
the_split = node VariableDeclaration (made (Some (codes "let") ∷ []) []) (many (declarator_with (node ObjectPattern (made [] []) (many (a_property before empty) then done)) (identifier it) before declarator_with (name (codes "b") 2) (rest_value (identifier it) (codes "a" ∷ [])) before empty) then done)

abbrev split : Tree
split = function_node (defaulted (identifier it)) (the_split before reads_a)

fresh : IsFreshName first_whole.in_use (codes "ref") (codes "_ref")
fresh = record { number = 0; name = refl; free = refl; first = λ m h. absurd (omega arith) }

one-below : 1 < 3
one-below = omega arith

two-below : 2 < 3
two-below = omega arith

may : MayMove first_whole pattern (defaulted (identifier it)) empty empty empty reads_a
may = record {
  earlier = tt;
  later = tt;
  own_default = ((refl, tt), tt);
  body = ((tt, tt), ((((tt, tt), (((tt, tt), tt), (((refl, one-below), tt), tt))), (((tt, tt), (((refl, two-below), tt), tt)), tt)), tt));
  form = refl;
}

silent : (v : Bool) → declared v reads (word (codes "c")) ≡ []
silent true = refl
silent false = refl

derived : Steps (Step RestRule the_program) (ledger first_whole nothing_pending None no_additions) (opened (program source)) (ledger (with_made (it ∷ []) first_whole) nothing_pending None no_additions) (opened (program split))
derived = goes (inside (in_later (in_first (in_program refl (in_head (acts source moved (inr (inr (inr (inr (inr (in_declaration fresh named (moves_one empty empty empty empty reads_a (made [] []) pattern_fields (defaulted pattern) (defaulted (identifier it)) refl refl (with_default silent) may))))))))))))) (goes (inside (in_later (in_first (in_program refl (in_head (inside (in_later (in_later (in_first (in_child (inside (in_later (in_first (in_target refl (in_head (acts (let_statement pattern it) the_split (inr (inl (takes_rest (made (Some (codes "let") ∷ []) []) (made [] []) (made [] []) (made [] []) (record (made (Some (codes "_ref") ∷ []) []) { marks = Some 3 ∷ [] }) empty (a_property before empty) empty (name (codes "b") 2) (beside (codes "a" ∷ [])) refl refl))))))))))))))))))) stays)

source_resolved : IsResolved (program source)
source_resolved = is_resolved-sound (program source) refl

split_resolved : IsResolved (program split)
split_resolved = is_resolved-sound (program split) refl
