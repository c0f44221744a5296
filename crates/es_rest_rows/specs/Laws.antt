-- The laws of the rows of object rests: they are steps of the rules of object rests, and what they ask of a program isn't changed by the
-- lowerings that come before.
use Rattle.std.specs.Prelude.{◌≡◌, ◌&&◌, ◌||◌, ℕ, List, [], Option, Bool, false, true, bytes_eq, codes, is_some}
use Rattle.es_resolution.specs.Declarations.{symbol_of}
use Rattle.es_semantic.specs.SymbolsOf.{symbols_of}
use Rattle.es_steps.specs.CoreBridge.{Reached, first_whole}
use Rattle.es_steps.specs.Laws.{nothing_beside}
use Rattle.es_steps.specs.Open.{opened}
use Rattle.es_steps.specs.Steps.{Ledger, Site, Spot, Step, Steps, Whole, at_node, the_program}
use Rattle.es_tree.specs.Constructs.{is_arrow, is_chain, is_enabled_statement, is_exponentiation, is_logical_assignment, is_nullish_coalescing, is_object_spread}
use Rattle.es_tree.specs.HasForm.{has_form}
use Rattle.es_tree.specs.Names.{first_text}
use Rattle.es_tree.specs.RestTargets.{is_rest_assignment}
use Rattle.es_tree.specs.Scopes.{name_in}
use Rattle.es_tree.specs.StaticRules.{breaks}
use Rattle.es_tree.specs.Tree.{Tree, Label, Fields}
use Rattle.es_tree.specs.Walks.{any_node}
use Rattle.es_tree.specs.Words.{Text}
use Rattle.es_tree.specs.declared.ast_type.AstType.{AstType}
use Rattle.es_tree.specs.declared.ast_type.AstType.TheVariants.{ClassDeclaration, ClassExpression, Identifier}
use Rattle.es_tree.specs.declared.options.EnvOptions.{EnvOptions}
use Rattle.es_tree.specs.declared.table.Sort.TheVariants.{Program as s-Program}
use Rattle.es_reached.specs.NoRests.{is_declared_rest}
use Rattle.es_reached.specs.Reached.{built_rules}
use Rattle.es_rest_rows.specs.RestRows.{RestRow, RestWalkRow}
use Rattle.es_rest_shapes.specs.HelperNames.{binds_helpers}
use Rattle.es_rest_shapes.specs.RestShapes.{is_misplaced, is_rest_declaration, is_stray_rest}
use Rattle.es_valid_rests.specs.RestRules.{OutsidePart}

-- a rule at one node
abbrev pub AtNode : (Site → Ledger → Spot → Ledger → Spot → Type 0) → Site → Ledger → Tree → Ledger → Tree → Type 0
AtNode R n s t s' u = R n s (at_node t) s' (at_node u)

-- THE ROWS, each at one node, are steps of the rules of object rests at that node: one where a source is stored or a pattern stands in a property, and
-- where a rest is taken one for each key that is read, and one.
abbrev pub LawRestRows : Type 0
LawRestRows = (n : Site) (s s' : Ledger) (t u : Tree) → AtNode RestRow n s t s' u → Steps (AtNode OutsidePart n) s t s' u

-- STEPS of the built lowerings bring no pattern with a rest where it isn't lowered.
abbrev pub LawStraysNotMade : Type 0
LawStraysNotMade = (o : EnvOptions) (p r : Tree) (names : List Text) → Reached (built_rules o) p (first_whole p) names r → any_node is_stray_rest p ≡ false → any_node is_stray_rest r ≡ false

-- Where none stands where it isn't lowered, and no declaration declares one, none is declared at all.
abbrev pub LawNoneDeclared : Type 0
LawNoneDeclared = (t : Tree) → is_misplaced t ≡ false → any_node is_stray_rest t ≡ false → any_node is_rest_declaration t ≡ false → any_node is_declared_rest t ≡ false

-- `babelHelpers`, where it refers to a binding, or is one
abbrev pub is_helper_binding : Text → Option ℕ → Bool
is_helper_binding x s = bytes_eq x (codes "babelHelpers") && is_some s

abbrev pub is_bound_helper : AstType → Label → Fields → Bool
is_bound_helper Identifier l fs = is_helper_binding (first_text l.texts) (symbol_of l)
is_bound_helper ClassDeclaration l fs = is_helper_binding (name_in fs) (symbol_of l)
is_bound_helper ClassExpression l fs = is_helper_binding (name_in fs) (symbol_of l)
is_bound_helper _ l fs = false

-- Where a program binds no such name, what they reach from it binds none.
abbrev pub LawHelpersUnbound : Type 0
LawHelpersUnbound = (o : EnvOptions) (p r : Tree) (names : List Text) → has_form s-Program p ≡ true → breaks p ≡ [] → binds_helpers (symbols_of p) ≡ false → Reached (built_rules o) p (first_whole p) names r → any_node is_bound_helper r ≡ false

-- the constructs that options ask to lower, but for object rests that are declared
abbrev pub is_other_construct : EnvOptions → AstType → Label → Fields → Bool
is_other_construct o k l fs =
    (o.es2016.exponentiation_operator && is_exponentiation k l fs)
    || (o.es2020.nullish_coalescing_operator && is_nullish_coalescing k l fs)
    || (o.es2020.optional_chaining && is_chain k l fs)
    || (o.es2021.logical_assignment_operators && is_logical_assignment k l fs)
    || (is_some o.es2018.object_rest_spread && is_object_spread k l fs)
    || (is_some o.es2018.object_rest_spread && is_rest_assignment k l fs)
    || (is_some o.es2015.arrow_function && is_arrow k l fs)
    || is_enabled_statement o k l fs

-- STEPS OF A WALK make none of them.
abbrev pub LawRestsMakeNone : Type 0
LawRestsMakeNone = (o : EnvOptions) (p q : Tree) (w w' : Whole) → Steps (Step RestWalkRow the_program) (nothing_beside w) (opened p) (nothing_beside w') (opened q) → any_node (is_other_construct o) p ≡ false → any_node (is_other_construct o) q ≡ false
