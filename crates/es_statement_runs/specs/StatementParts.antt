-- The parts of declarations, statements and modules (ECMA-262, 14 and 16.2).
use Rattle.std.specs.Prelude.{Bool, true, false, List, [], ◌∷◌, ◌++◌, if◌then◌else◌, codes}
use Rattle.es_tree.specs.Words.{Text}
use Rattle.es_tree.specs.Tree.{◌then◌}
use Rattle.es_runs.specs.Machine.{Value, M, ◌>>=◌, return, stop, ask, set_cell, is_true}
use Rattle.es_runs.specs.Machine.Value.{undefined, own}
use Rattle.es_runs.specs.Machine.OwnValue.{helper}
use Rattle.es_runs.specs.Machine.Question.{of_statement}
use Rattle.es_runs.specs.Machine.StatementQuestion.{iterator, keys, import_name}
use Rattle.es_runs.specs.Machine.Stop.{unknown}
use Rattle.es_runs.specs.Core.{World, Binding, Meaning, value, initialise, in_order}
use Rattle.es_runs.specs.Core.Binding.{silent}
use Rattle.es_runs.specs.Core.Silent.{helper_name}
use Rattle.es_statement_runs.specs.Senses.{plain_sense, cores, word_text, ends, putter, More, Portion, Sense, Place}
use Rattle.es_statement_runs.specs.Senses.More.{keys_of, begins, imports, handles, clause_of, nothing_more, aims, heads}
use Rattle.es_statement_runs.specs.Senses.Portion.{alone}
use Rattle.es_statement_runs.specs.Stacks.{own_cells, Scope, in_scope, with_stack_where, used}
use Rattle.es_statement_runs.specs.Scopes.{done_with, scoped}
use Rattle.es_statement_runs.specs.Statements.{looped, each, caught, finalized, Clause}
use Rattle.es_statement_runs.specs.Statements.Clause.{when, default}
use Rattle.es_statement_runs.specs.Patterns.{Putter}
use Rattle.es_statement_runs.specs.Names.{is_word}

-- DECLARATIONS (14.3)

-- what a declarator without initialiser does with a value: the head of a loop
abbrev pub used_where : Bool → Putter → Putter
used_where true put v = used v >>= put
used_where false put v = put v

abbrev pub head_aims : Place → Sense → More
head_aims p id = heads (putter true p.world id >>= λ put. return (used_where (is_word (codes "using") p.word) put))

abbrev pub declarator_by : Place → More → Sense → Sense → Meaning → Sense
declarator_by p (aims target) id e m = ends (value p.world e.core >>= λ v. target >>= λ put. put v)
declarator_by p (keys_of ks) id e m = ends (return undefined)
declarator_by p _ id e m = if is_word (codes "using") p.word then ends (id.core.reference >>= λ r. value p.world e.core >>= used >>= λ v. initialise v r) else plain_sense m

abbrev pub first_more : List Sense → More
first_more [] = nothing_more
first_more (e ∷ es) = e.more

-- STATEMENTS

abbrev pub optional_value : World → Portion → Value → M Value
optional_value w (alone e) v = value w e.core
optional_value w _ v = return v

abbrev pub tested : M Value → M Bool
tested m = m >>= λ v. return (is_true v)

abbrev pub for_test : World → Portion → M Bool
for_test w (alone e) = tested (value w e.core)
for_test w _ = return true

abbrev pub for_statement : Place → World → Scope → Portion → Portion → Portion → Sense → M Value
for_statement p w block init test update body =
    in_scope block (optional_value w init undefined >>= λ _. looped p.labels (for_test w test) (value w body.core) (optional_value w update undefined))

abbrev pub head_by : More → M Putter → M Putter
head_by (heads m) put = m
head_by _ put = put

abbrev pub head_putter : World → Sense → M Putter
head_putter w e = head_by e.more (putter false w e)

-- the right side is evaluated where the head's names are unset (14.7.5.6), and each turn has cells of its own
abbrev pub for_each : Place → World → Scope → Bool → Sense → Sense → Sense → M Value
for_each p w block closes head right body =
    scoped (own_cells block) (value w right.core) >>= λ v. ask (if closes then of_statement (iterator v) else of_statement (keys v)) >>=
    each p.labels closes (λ u. in_scope block (head_putter w head >>= λ put. put u >>= λ _. value w body.core))

abbrev pub labels_of : Portion → List Text
labels_of (alone e) = word_text e.core.form ∷ []
labels_of _ = []

abbrev pub clause_by : More → List Clause
clause_by (clause_of c) = c ∷ []
clause_by _ = []

abbrev pub clauses : List Sense → List Clause
clauses [] = []
clauses (e ∷ es) = clause_by e.more ++ clauses es

abbrev pub case_clause : World → Portion → List Sense → Clause
case_clause w (alone e) body = when (value w e.core) (in_order w (cores body))
case_clause w _ body = default (in_order w (cores body))

abbrev pub bound_parameter : World → Portion → Putter
bound_parameter w (alone e) v = putter true w e >>= λ put. put v
bound_parameter w _ v = return undefined

abbrev pub handler_of : More → Value → M Value
handler_of (handles f) v = f v
handler_of _ v = stop unknown

abbrev pub handled : Portion → M Value → M Value
handled (alone h) m = λ s. caught (handler_of h.more) (m s)
handled _ m = m

abbrev pub at_last : World → Portion → M Value → M Value
at_last w (alone f) m = λ s. finalized (value w f.core) (m s)
at_last w _ m = m

-- MODULES (16.2)

abbrev pub imported_as : Text → List Text → More
imported_as x [] = nothing_more
imported_as x (y ∷ ys) = imports x y

-- an import of a helper asks nothing
abbrev pub asked_by : Binding → Text → Text → Text → M Value
asked_by (silent (helper_name h)) m x y = set_cell y (own (helper h))
asked_by _ m x y = ask (of_statement (import_name m x)) >>= λ v. set_cell y v

abbrev pub asked_name : World → Text → More → M Value
asked_name w m (imports x y) = asked_by (w.scope y) m x y
asked_name w m _ = stop unknown

abbrev pub asked_names : World → Text → List Sense → M Value
asked_names w m [] = return undefined
asked_names w m (e ∷ es) = asked_name w m e.more >>= λ _. asked_names w m es

abbrev pub namespace_begins : Portion → Text → More
namespace_begins (alone e) m = begins (ask (of_statement (import_name m (codes "*"))) >>= done_with)
namespace_begins _ m = nothing_more

abbrev pub first_asked : More → M Value → M Value
first_asked (begins m) rest = m >>= λ _. rest
first_asked _ rest = rest

-- each import before the first statement, in order
abbrev pub begun : List Sense → M Value → M Value
begun [] m = m
begun (e ∷ es) m = first_asked e.more (begun es m)

abbrev pub program_sense : World → Bool → List Sense → Sense
program_sense w uses body = ends (begun body (with_stack_where uses (in_order w (cores body))))
