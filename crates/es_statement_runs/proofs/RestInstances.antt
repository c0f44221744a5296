-- The law of object rest at two programs, so that it is seen that its premises can be met.
use Rattle.std.proofs.Common.{refl, [], ◌∷◌}
use Rattle.std.specs.Prelude.{Bool, false, Some, codes}
use Rattle.es_tree.specs.Words.{Text}
use Rattle.es_tree.specs.Tree.{Tree, Label, node, done, ◌then◌, one, many, Trees, empty, ◌before◌}
use Rattle.es_tree.specs.declared.ast_type.AstType.TheVariants.{AssignmentPattern, PatternProperty, RestElement, VariableDeclaration, VariableDeclarator, WhileStatement}
use Rattle.es_runs.specs.Alike.{Level, bad_names}
use Rattle.es_runs.specs.Runs.{made, none_hidden, only, identifier, program}
use Rattle.es_statement_runs.specs.Helpers.Supply.{by_global}
use Rattle.es_statement_runs.specs.Laws.{Rests, followed, StaticProperties, bare_rest_call, body_needs, object_pattern_at, rest_call}
use Rattle.es_statement_runs.specs.Laws.RestRow.{bare_row, rest_row}
use Rattle.es_statement_runs.specs.Laws.StaticProperties.{no_property, one_property}
use Rattle.es_statement_runs.specs.Laws.Valued.{first_valued}
use Rattle.es_statement_runs.specs.Names.{top_in}
use Rattle.es_statement_runs.specs.Places.{CloseTrees, value_taken}
use Rattle.es_statement_runs.specs.Places.InScope.{below_scope}
use Rattle.es_statement_runs.specs.Places.Close.{placed, within}
use Rattle.es_statement_runs.specs.Places.CloseField.{close_one, close_statements}
use Rattle.es_statement_runs.specs.Places.CloseFields.{close_done, close_then}
use Rattle.es_statement_runs.specs.Places.CloseTrees.{close_before, close_empty}
use Rattle.es_statement_runs.specs.Runs.{RunAlike}
use Rattle.es_statement_runs.proofs.Everywhere.{close_self}
use Rattle.es_statement_runs.proofs.Examples.{block, called, declaration, plain, statement, string, x_}
use Rattle.es_statement_runs.proofs.ObjectRests.{law_rest_proof}

abbrev bare : Label
bare = made [] []

abbrev s_ : Text
s_ = codes "s"

abbrev r_ : Text
r_ = codes "r"

abbrev bad : Level → Text → Bool
bad = bad_names none_hidden (only (codes "babelHelpers"))

abbrev declarator : Tree → Tree → Tree
declarator p e = plain VariableDeclarator (one p then one e then done)

abbrev declares : Text → Trees → Tree
declares kind ds = node VariableDeclaration (made (Some kind ∷ []) []) (many ds then done)

abbrev rest_element : Tree
rest_element = plain RestElement (one (identifier r_) then done)

-- `while (t) { const s = z, { a: x = f(), "l": y, ...r } = s; g(r); }`
abbrev property : Tree → Tree → Tree
property k e = node PatternProperty (made [] (false ∷ false ∷ [])) (one k then one e then done)

abbrev first_property : Tree
first_property = property (x_ (codes "a")) (plain AssignmentPattern (one (x_ (codes "x")) then one (called (x_ (codes "f")) empty) then done))

abbrev second_property : Tree
second_property = property (string (codes "l")) (x_ (codes "y"))

abbrev looping : Trees → Trees
looping ds = plain WhileStatement (one (x_ (codes "t")) then one (block (declares (codes "const") ds before statement (called (x_ (codes "g")) (x_ r_ before empty)) before empty)) then done) before empty

abbrev set_first : Trees
set_first = declarator (identifier s_) (x_ (codes "z")) before empty

abbrev with_rest : Trees
with_rest = followed set_first (declarator (object_pattern_at bare (first_property before second_property before rest_element before empty)) (identifier s_) before empty)

abbrev without_rest : Trees
without_rest = followed set_first (declarator (object_pattern_at bare (first_property before second_property before empty)) (identifier s_) before declarator (identifier r_) (rest_call s_ (codes "a" ∷ codes "l" ∷ [])) before empty)

static : StaticProperties (first_property before second_property before empty) (codes "a" ∷ codes "l" ∷ [])
static = one_property refl refl (one_property refl refl no_property)

-- the block declares both names
rows : CloseTrees bad (Rests s_ r_ 1 []) body_needs (looping with_rest) (looping without_rest)
rows = close_before
    (within refl refl refl refl refl refl refl (close_then (close_one (close_self bad _ (x_ (codes "t")) value_taken refl)) (close_then (close_one
    (placed (below_scope refl refl refl refl refl refl refl refl (close_then (close_statements (close_before (placed (refl, refl, rest_row bare bare bare bare bare set_first empty first_valued refl static refl)) (close_before (close_self bad _ (statement (called (x_ (codes "g")) (x_ r_ before empty))) value_taken refl) close_empty))) close_done)))) close_done)))
    close_empty

rest_here : RunAlike by_global false (program bare empty (looping with_rest)) (program bare empty (looping without_rest))
rest_here = law_rest_proof s_ r_ 1 bare empty _ _ rows refl refl refl refl refl refl refl refl

-- `var s = z; const w = s, { ...r } = s, v = r;`
abbrev plainly : Trees → Trees
plainly ds = declaration (codes "var") s_ (x_ (codes "z")) before declares (codes "const") ds before empty

abbrev rest_alone : Trees
rest_alone = declarator (x_ (codes "w")) (x_ s_) before declarator (object_pattern_at bare (rest_element before empty)) (identifier s_) before declarator (x_ (codes "v")) (x_ r_) before empty

abbrev copied_alone : Trees
copied_alone = declarator (x_ (codes "w")) (x_ s_) before declarator (identifier r_) (bare_rest_call s_) before declarator (x_ (codes "v")) (x_ r_) before empty

abbrev valued_first : Trees
valued_first = declarator (x_ (codes "w")) (x_ s_) before empty

bare_rows : CloseTrees bad (Rests s_ r_ 0 (top_in (plainly rest_alone))) body_needs (plainly rest_alone) (plainly copied_alone)
bare_rows = close_before (close_self bad _ (declaration (codes "var") s_ (x_ (codes "z"))) body_needs refl) (close_before (placed (refl, refl, bare_row bare bare bare bare valued_first (declarator (x_ (codes "v")) (x_ r_) before empty) first_valued refl)) close_empty)

bare_here : RunAlike by_global false (program bare empty (plainly rest_alone)) (program bare empty (plainly copied_alone))
bare_here = law_rest_proof s_ r_ 0 bare empty _ _ bare_rows refl refl refl refl refl refl refl refl
