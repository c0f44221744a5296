-- No lowering makes, writes or brings about a construct that one before it takes away, and each counts on what those before it leave.
use Rattle.std.proofs.Common.{◌≡◌, ◌∙◌, Bool, ap, codes, inl, inr, refl, sym, true≢false}
use Rattle.std.specs.Prelude.{true, false, ◌&&◌, bytes_eq, is_some}
use Rattle.es_tree.specs.Constructs.{field_at, is_chain, is_nullish_coalescing, is_object_spread, is_optional_catch}
use Rattle.es_tree.specs.Names.{first_text}
use Rattle.es_tree.specs.RestTargets.{is_rest_target}
use Rattle.es_tree.specs.Tree.{Tree, node, Label, Fields, ◌then◌, many, one, fields_of, kind_of, label_of}
use Rattle.es_tree.specs.declared.ast_type.AstType.{AstType}
use Rattle.es_tree.specs.declared.ast_type.AstType.TheVariants.{AssignmentExpression, BinaryExpression, CallExpression, CatchClause, ChainExpression, ConditionalExpression, ExportAllDeclaration, LogicalExpression, ObjectExpression, ObjectTarget, SequenceExpression}
use Rattle.es_tree.specs.declared.options.EnvOptions.{EnvOptions}
use Rattle.es_visit.specs.declared.hook.Hook.{Hook}
use Rattle.es_visit.specs.declared.hook.Hook.TheVariants.{CatchClause as h-CatchClause, Expression}
use Rattle.es_row_laws.specs.Laws.{KeepsConstructs, OfEachRule, is_lowered_assignment, is_lowered_power, is_lowered_rest, object_spread_under, rest_assignment_under, rests_are_simple}
use Rattle.es_row_laws.proofs.Stable.{law_stable_rows_proof}
use Rattle.es_changes.specs.Conditions.{Conditions}
use Rattle.es_conditions.specs.CoreConditions.{core_conditions, is_free}
use Rattle.es_steps.specs.Open.{finished_fields}
use Rattle.es_steps.specs.Steps.{Ledger, Site, Spot}
use Rattle.es_traverse.specs.Laws.{AreApart, Ending, EndsApart, IsStable, Profile, both_endings, both_profile, is_construct, no_ending}
use Rattle.es_traverse.specs.Together.{neither}
use Rattle.lower_chains.specs.Profiles.{chain_constructs, chain_profile, is_left}
use Rattle.lower_exponentiation.specs.Exponentiations.{IsCallOrAssignment}
use Rattle.lower_exponentiation.specs.Profile.{exponentiation_constructs, exponentiation_profile}
use Rattle.lower_logical_assignment.specs.Lawful.{assignment_stable}
use Rattle.lower_logical_assignment.specs.Profile.{logical_assignment_constructs, logical_assignment_profile}
use Rattle.lower_namespace_exports.specs.Apart.{ends_apart_from, is_export_all, module_plain, never_stable}
use Rattle.lower_namespace_exports.specs.Profile.{IsModuleNode, namespace_ending, namespace_profile}
use Rattle.lower_nullish_coalescing.specs.Lawful.{coalescing_stable}
use Rattle.lower_nullish_coalescing.specs.Profile.{nullish_coalescing_constructs, nullish_coalescing_profile}
use Rattle.lower_object_spread.specs.Profile.{object_spread_profile}
use Rattle.lower_optional_catch.specs.Lawful.{catch_stable}
use Rattle.lower_optional_catch.specs.Profile.{IsWholeCatch, optional_catch_constructs, optional_catch_profile}
use Rattle.lower_rest_assignments.specs.Profile.{rest_assignment_profile}
use Rattle.lower_temporaries.specs.RowProfiles.{constructs_where, row_profile}
use Rattle.lower_writing.specs.Writing.{MayBeWritten, common_profile}
use Rattle.lower_editions.specs.ApartTogether.{AreSeparate, apart, both_separate_from, separate_from_both}
use Rattle.lower_editions.specs.Editions.{editions_ending, es2016_profile, es2018_profile, es2019_profile, es2020_ending, es2018_ending, es2020_profile, es2021_profile, expressions_profile, last_ending}

-- WHAT IS MADE is none of these constructs, where they are on or not

off : (b : Bool) → (b && false) ≡ false
off true = refl
off false = refl

no_coalescing : (on : Bool) (h : Hook) (t : Tree) → is_nullish_coalescing (kind_of t) (label_of t) (fields_of t) ≡ false → is_construct (nullish_coalescing_constructs on h) t ≡ false
no_coalescing on Expression t e = rw e (off on)
no_coalescing on _ t e = refl

no_assignment : (on : Bool) (h : Hook) (t : Tree) → is_lowered_assignment (kind_of t) (label_of t) (fields_of t) ≡ false → is_construct (logical_assignment_constructs on h) t ≡ false
no_assignment on Expression t e = rw e (off on)
no_assignment on _ t e = refl

no_chain : (o : EnvOptions) (h : Hook) (t : Tree) → is_chain (kind_of t) (label_of t) (fields_of t) ≡ false → is_construct (chain_constructs o h) t ≡ false
no_chain o Expression t e = rw e (off o.es2020.optional_chaining)
no_chain o _ t e = refl

-- a conditional, or a call of one
left_plain : (t : Tree) → is_left (kind_of t) ≡ true → (is_nullish_coalescing (kind_of t) (label_of t) (fields_of t) ≡ false) × (is_lowered_assignment (kind_of t) (label_of t) (fields_of t) ≡ false)
left_plain (node ConditionalExpression l fs) e = (refl, refl)
left_plain (node CallExpression l fs) e = (refl, refl)
left_plain (node _ l fs) e = absurd (cc e)

-- what takes the place of a `??`
conditional_plain : (t : Tree) → kind_of t ≡ ConditionalExpression → is_lowered_assignment (kind_of t) (label_of t) (fields_of t) ≡ false
conditional_plain (node ConditionalExpression l fs) e = refl
conditional_plain (node _ l fs) e = absurd (cc e)

-- a call, a sequence, or an assignment by `=`
power_plain : (t : Tree) → IsCallOrAssignment t → (is_nullish_coalescing (kind_of t) (label_of t) (fields_of t) ≡ false) × (is_chain (kind_of t) (label_of t) (fields_of t) ≡ false) × (is_lowered_assignment (kind_of t) (label_of t) (fields_of t) ≡ false)
power_plain (node CallExpression l fs) e = (refl, refl, refl)
power_plain (node SequenceExpression l fs) e = (refl, refl, refl)
power_plain (node AssignmentExpression l fs) e = (refl, refl, rw e.0 refl)
power_plain (node _ l fs) e = absurd e

-- what is written for lists and bodies
written_plain : (t : Tree) → MayBeWritten t → (is_nullish_coalescing (kind_of t) (label_of t) (fields_of t) ≡ false) × (is_chain (kind_of t) (label_of t) (fields_of t) ≡ false) × (is_lowered_assignment (kind_of t) (label_of t) (fields_of t) ≡ false)
written_plain (node LogicalExpression l fs) w = absurd (true≢false (sym w))
written_plain (node ChainExpression l fs) w = absurd (true≢false (sym w))
written_plain (node AssignmentExpression l fs) w = absurd (true≢false (sym w))
written_plain (node _ l fs) w = (refl, refl, refl)

written_power : (t : Tree) → MayBeWritten t → is_lowered_power (kind_of t) (label_of t) (fields_of t) ≡ false
written_power (node BinaryExpression l fs) w = absurd (true≢false (sym w))
written_power (node AssignmentExpression l fs) w = absurd (true≢false (sym w))
written_power (node _ l fs) w = refl

none_where : (is : AstType → Label → Fields → Bool) (on : Bool) (h : Hook) (t : Tree) → is (kind_of t) (label_of t) (fields_of t) ≡ false → is_construct (constructs_where is on h) t ≡ false
none_where is on Expression t e = rw e (off on)
none_where is on _ t e = refl

no_power : (on : Bool) (h : Hook) (t : Tree) → is_lowered_power (kind_of t) (label_of t) (fields_of t) ≡ false → is_construct (exponentiation_constructs on h) t ≡ false
no_power = none_where is_lowered_power

-- a clause with its parameter
abbrev is_clause : AstType → Bool
is_clause CatchClause = true
is_clause _ = false

clause_plain : (t : Tree) → is_clause (kind_of t) ≡ true →
    (is_nullish_coalescing (kind_of t) (label_of t) (fields_of t) ≡ false) × (is_chain (kind_of t) (label_of t) (fields_of t) ≡ false) × (is_lowered_assignment (kind_of t) (label_of t) (fields_of t) ≡ false) × (is_lowered_power (kind_of t) (label_of t) (fields_of t) ≡ false)
clause_plain (node CatchClause l fs) e = (refl, refl, refl, refl)
clause_plain (node _ l fs) e = absurd (true≢false (sym e))

-- what the lowering of catch clauses writes
clause_written : (t : Tree) → IsWholeCatch t → is_clause (kind_of t) ≡ true
clause_written t w = ap is_clause w.kind

-- what no lowering of expressions and lists makes
no_catch : (on : Bool) (h : Hook) (t : Tree) → is_clause (kind_of t) ≡ false → is_construct (optional_catch_constructs on h) t ≡ false
no_catch on h-CatchClause (node CatchClause l fs) e = absurd (true≢false e)
no_catch on h-CatchClause (node _ l fs) e = off on
no_catch on _ t e = refl

raised_no_clause : (t : Tree) → IsCallOrAssignment t → is_clause (kind_of t) ≡ false
raised_no_clause (node CatchClause l fs) e = absurd e
raised_no_clause (node _ l fs) e = refl

written_no_clause : (t : Tree) → MayBeWritten t → is_clause (kind_of t) ≡ false
written_no_clause (node CatchClause l fs) w = absurd (true≢false (sym w))
written_no_clause (node _ l fs) w = refl

-- what is written for exports of namespaces
module_no_clause : (t : Tree) → IsModuleNode t → is_clause (kind_of t) ≡ false
module_no_clause (node CatchClause l fs) w = absurd (true≢false (sym w))
module_no_clause (node _ l fs) w = refl

written_no_export : (t : Tree) → MayBeWritten t → is_export_all (kind_of t) ≡ false
written_no_export (node ExportAllDeclaration l fs) w = absurd (true≢false (sym w))
written_no_export (node _ l fs) w = refl

-- steps that make no node an exponentiation make none one that is to be lowered
where_stable : (is : AstType → Label → Fields → Bool) (R : Site → Ledger → Spot → Ledger → Spot → Type 0) → IsStable R is → (on : Bool) (h : Hook) → IsStable R (constructs_where is on h)
where_stable is R stable true Expression = stable
where_stable is R stable false Expression = λ n s s' k l first fs gs stand r e. refl
where_stable is R stable on _ = λ n s s' k l first fs gs stand r e. refl

power_stable : (R : Site → Ledger → Spot → Ledger → Spot → Type 0) → IsStable R is_lowered_power → (on : Bool) (h : Hook) → IsStable R (exponentiation_constructs on h)
power_stable = where_stable is_lowered_power

-- a chain is told by its kind alone
chain_stable : (R : Site → Ledger → Spot → Ledger → Spot → Type 0) (o : EnvOptions) (h : Hook) → IsStable R (chain_constructs o h)
chain_stable R o Expression = λ n s s' k l first fs gs stand r e. kind_alone k l (finished_fields fs) (finished_fields gs) e
  where
    kind_alone : (k : AstType) (l : Label) (fs gs : Fields) → chain_constructs o Expression k l fs ≡ false → chain_constructs o Expression k l gs ≡ false
    kind_alone ChainExpression l fs gs e = e
    kind_alone _ l fs gs e = e
chain_stable R o _ = λ n s s' k l first fs gs stand r e. refl

-- OBJECTS: a literal with spreads and an assignment to a pattern with a rest are told by their kinds first

abbrev is_object_kind : AstType → Bool
is_object_kind ObjectExpression = true
is_object_kind AssignmentExpression = true
is_object_kind _ = false

no_object : (t : Tree) → is_object_kind (kind_of t) ≡ false → (is_object_spread (kind_of t) (label_of t) (fields_of t) ≡ false) × (is_lowered_rest (kind_of t) (label_of t) (fields_of t) ≡ false)
no_object (node ObjectExpression l fs) e = absurd (cc e)
no_object (node AssignmentExpression l fs) e = absurd (cc e)
no_object (node _ l fs) e = (refl, refl)

written_no_object : (t : Tree) → MayBeWritten t → is_object_kind (kind_of t) ≡ false
written_no_object (node ObjectExpression l fs) w = absurd (true≢false (sym w))
written_no_object (node AssignmentExpression l fs) w = absurd (true≢false (sym w))
written_no_object (node _ l fs) w = refl

clause_no_object : (t : Tree) → is_clause (kind_of t) ≡ true → is_object_kind (kind_of t) ≡ false
clause_no_object (node ObjectExpression l fs) e = absurd (true≢false (sym e))
clause_no_object (node AssignmentExpression l fs) e = absurd (true≢false (sym e))
clause_no_object (node _ l fs) e = refl

module_no_object : (t : Tree) → IsModuleNode t → is_object_kind (kind_of t) ≡ false
module_no_object (node ObjectExpression l fs) e = absurd (cc e)
module_no_object (node AssignmentExpression l fs) e = absurd (cc e)
module_no_object (node _ l fs) e = refl

-- what takes the place of an exponentiation
other_target : (l : Label) (fs : Fields) → is_rest_target (field_at 0 fs) ≡ false → is_lowered_rest AssignmentExpression l fs ≡ false
other_target l (one (node ObjectTarget m (many ps then gs)) then fs) e = rw e (ap (λ b. b && rests_are_simple ps) (off (bytes_eq (first_text l.texts) (codes "="))))
other_target l _ e = refl

raised_no_object : (t : Tree) → IsCallOrAssignment t → (is_object_spread (kind_of t) (label_of t) (fields_of t) ≡ false) × (is_lowered_rest (kind_of t) (label_of t) (fields_of t) ≡ false)
raised_no_object (node AssignmentExpression l fs) e = (refl, other_target l fs e.1)
raised_no_object (node ObjectExpression l fs) e = absurd e
raised_no_object (node _ l fs) e = (refl, refl)

-- what takes the place of these: a call or a sequence
abbrev is_value : AstType → Bool
is_value CallExpression = true
is_value SequenceExpression = true
is_value _ = false

value_plain : (t : Tree) → is_value (kind_of t) ≡ true →
    (is_nullish_coalescing (kind_of t) (label_of t) (fields_of t) ≡ false) × (is_chain (kind_of t) (label_of t) (fields_of t) ≡ false) × (is_lowered_assignment (kind_of t) (label_of t) (fields_of t) ≡ false) × (is_clause (kind_of t) ≡ false) × (is_object_kind (kind_of t) ≡ false)
value_plain (node CallExpression l fs) e = (refl, refl, refl, refl, refl)
value_plain (node SequenceExpression l fs) e = (refl, refl, refl, refl, refl)
value_plain (node _ l fs) e = absurd (cc e)

-- THE PAIRS

module _ (o : EnvOptions) where
  rows : OfEachRule KeepsConstructs o
  rows = law_stable_rows_proof o

  abbrev on_nullish : Bool
  on_nullish = o.es2020.nullish_coalescing_operator

  abbrev on_logical : Bool
  on_logical = o.es2021.logical_assignment_operators

  abbrev on_power : Bool
  on_power = o.es2016.exponentiation_operator

  abbrev on_spread : Bool
  on_spread = is_some o.es2018.object_rest_spread

  abbrev on_catch : Bool
  on_catch = o.es2019.optional_catch_binding

  coalescing_chains : AreSeparate (nullish_coalescing_profile o) (chain_profile o)
  coalescing_chains = record {
    makes = λ h t m. no_coalescing on_nullish h t (left_plain t m).0;
    first_writes = λ h t w. absurd w;
    second_writes = λ h t w. absurd w;
    first_stable = coalescing_stable (chain_profile o).rule rows.optional_chaining.nullish_coalescing on_nullish;
    second_stable = chain_stable (nullish_coalescing_profile o).rule o;
    before = λ n t. refl;
    after = λ n t. refl;
  }

  coalescing_powers : AreSeparate (nullish_coalescing_profile o) (exponentiation_profile o)
  coalescing_powers = record {
    makes = λ h t m. no_coalescing on_nullish h t (power_plain t m).0;
    first_writes = λ h t w. absurd w;
    second_writes = λ h t w. absurd w;
    first_stable = coalescing_stable (exponentiation_profile o).rule rows.exponentiation.nullish_coalescing on_nullish;
    second_stable = power_stable (nullish_coalescing_profile o).rule rows.nullish_coalescing.exponentiation on_power;
    before = λ n t. refl;
    after = λ n t. refl;
  }

  chains_powers : AreSeparate (chain_profile o) (exponentiation_profile o)
  chains_powers = record {
    makes = λ h t m. no_chain o h t (power_plain t m).1;
    first_writes = λ h t w. absurd w;
    second_writes = λ h t w. absurd w;
    first_stable = chain_stable (exponentiation_profile o).rule o;
    second_stable = power_stable (chain_profile o).rule rows.optional_chaining.exponentiation on_power;
    before = λ n t. refl;
    after = λ n t. refl;
  }

  assignments_coalescing : AreSeparate (logical_assignment_profile o) (nullish_coalescing_profile o)
  assignments_coalescing = record {
    makes = λ h t m. no_assignment on_logical h t (conditional_plain t m);
    first_writes = λ h t w. absurd w;
    second_writes = λ h t w. absurd w;
    first_stable = assignment_stable (nullish_coalescing_profile o).rule rows.nullish_coalescing.logical_assignment on_logical;
    second_stable = coalescing_stable (logical_assignment_profile o).rule rows.logical_assignment.nullish_coalescing on_nullish;
    before = λ n t. refl;
    after = λ n t. refl;
  }

  assignments_chains : AreSeparate (logical_assignment_profile o) (chain_profile o)
  assignments_chains = record {
    makes = λ h t m. no_assignment on_logical h t (left_plain t m).1;
    first_writes = λ h t w. absurd w;
    second_writes = λ h t w. absurd w;
    first_stable = assignment_stable (chain_profile o).rule rows.optional_chaining.logical_assignment on_logical;
    second_stable = chain_stable (logical_assignment_profile o).rule o;
    before = λ n t. refl;
    after = λ n t. refl;
  }

  assignments_powers : AreSeparate (logical_assignment_profile o) (exponentiation_profile o)
  assignments_powers = record {
    makes = λ h t m. no_assignment on_logical h t (power_plain t m).2;
    first_writes = λ h t w. absurd w;
    second_writes = λ h t w. absurd w;
    first_stable = assignment_stable (exponentiation_profile o).rule rows.exponentiation.logical_assignment on_logical;
    second_stable = power_stable (logical_assignment_profile o).rule rows.logical_assignment.exponentiation on_power;
    before = λ n t. refl;
    after = λ n t. refl;
  }

  -- a lowering of expressions before that of catch clauses
  before_catches : (p : Profile) → p.conditions ≡ core_conditions o → ((t : Tree) → p.writes t → ⊥) → ((h : Hook) (t : Tree) → is_clause (kind_of t) ≡ true → is_construct (p.constructs h) t ≡ false) → IsStable p.rule is_optional_catch → ((h : Hook) → IsStable (optional_catch_profile o).rule (p.constructs h)) →
      AreSeparate p (optional_catch_profile o)
  before_catches p same none plain stable own = record {
    makes = λ h t m. absurd m;
    first_writes = λ h t w. absurd (none t w);
    second_writes = λ h t w. plain h t (clause_written t w);
    first_stable = own;
    second_stable = catch_stable p.rule stable on_catch;
    before = λ n t. ap (λ (c : Conditions). c.before n t) (sym same);
    after = λ n t. ap (λ (c : Conditions). c.after n t) (sym same);
  }

  coalescing_catches : AreSeparate (nullish_coalescing_profile o) (optional_catch_profile o)
  coalescing_catches = before_catches (nullish_coalescing_profile o) refl (λ t w. w) (λ h t c. no_coalescing on_nullish h t (clause_plain t c).0) rows.nullish_coalescing.optional_catch (coalescing_stable (optional_catch_profile o).rule rows.optional_catch.nullish_coalescing on_nullish)

  chains_catches : AreSeparate (chain_profile o) (optional_catch_profile o)
  chains_catches = before_catches (chain_profile o) refl (λ t w. w) (λ h t c. no_chain o h t (clause_plain t c).1) rows.optional_chaining.optional_catch (chain_stable (optional_catch_profile o).rule o)

  assignments_catches : AreSeparate (logical_assignment_profile o) (optional_catch_profile o)
  assignments_catches = before_catches (logical_assignment_profile o) refl (λ t w. w) (λ h t c. no_assignment on_logical h t (clause_plain t c).2) rows.logical_assignment.optional_catch (assignment_stable (optional_catch_profile o).rule rows.optional_catch.logical_assignment on_logical)

  catches_powers : AreSeparate (optional_catch_profile o) (exponentiation_profile o)
  catches_powers = record {
    makes = λ h t m. no_catch on_catch h t (raised_no_clause t m);
    first_writes = λ h t w. no_power on_power h t (clause_plain t (clause_written t w)).3;
    second_writes = λ h t w. absurd w;
    first_stable = catch_stable (exponentiation_profile o).rule rows.exponentiation.optional_catch on_catch;
    second_stable = power_stable (optional_catch_profile o).rule rows.optional_catch.exponentiation on_power;
    before = λ n t. refl;
    after = λ n t. refl;
  }

  -- EXPORTS OF NAMESPACES, which are lowered after the program: what is written for them is no construct of another type

  before_exports : (p : Profile) → p.conditions ≡ core_conditions o → ((h : Hook) (t : Tree) → IsModuleNode t → is_construct (p.constructs h) t ≡ false) → AreSeparate p (namespace_profile o)
  before_exports p same plain = record {
    makes = λ h t m. absurd m;
    first_writes = λ h t w. refl;
    second_writes = plain;
    first_stable = λ h. never_stable (p.constructs h);
    second_stable = λ h n s s' k l first fs gs stand r e. refl;
    before = λ n t. ap (λ (c : Conditions). c.before n t) (sym same);
    after = λ n t. ap (λ (c : Conditions). c.after n t) (sym same);
  }

  exports_before : (p : Profile) → p.conditions ≡ core_conditions o → ((h : Hook) (t : Tree) → IsModuleNode t → is_construct (p.constructs h) t ≡ false) → AreSeparate (namespace_profile o) p
  exports_before p same plain = record {
    makes = λ h t m. refl;
    first_writes = plain;
    second_writes = λ h t w. refl;
    first_stable = λ h n s s' k l first fs gs stand r e. refl;
    second_stable = λ h. never_stable (p.constructs h);
    before = λ n t. ap (λ (c : Conditions). c.before n t) same;
    after = λ n t. ap (λ (c : Conditions). c.after n t) same;
  }

  coalescing_exports : AreSeparate (nullish_coalescing_profile o) (namespace_profile o)
  coalescing_exports = before_exports (nullish_coalescing_profile o) refl (λ h t w. no_coalescing on_nullish h t (module_plain t w).0)

  chains_exports : AreSeparate (chain_profile o) (namespace_profile o)
  chains_exports = before_exports (chain_profile o) refl (λ h t w. no_chain o h t (module_plain t w).1)

  assignments_exports : AreSeparate (logical_assignment_profile o) (namespace_profile o)
  assignments_exports = before_exports (logical_assignment_profile o) refl (λ h t w. no_assignment on_logical h t (module_plain t w).2)

  exports_catches : AreSeparate (namespace_profile o) (optional_catch_profile o)
  exports_catches = exports_before (optional_catch_profile o) refl (λ h t w. no_catch on_catch h t (module_no_clause t w))

  exports_powers : AreSeparate (namespace_profile o) (exponentiation_profile o)
  exports_powers = exports_before (exponentiation_profile o) refl (λ h t w. no_power on_power h t (module_plain t w).3)

  common_exports : AreSeparate (common_profile o) (namespace_profile o)
  common_exports = before_exports (common_profile o) refl (λ h t w. refl)

  -- OBJECT SPREAD, AND OBJECT RESTS IN ASSIGNMENTS, whose rows write nothing

  module _ (R : Site → Ledger → Spot → Ledger → Spot → Type 0) (is : AstType → Label → Fields → Bool) (k : AstType) (value : is_value k ≡ true) where
    abbrev row : Profile
    row = row_profile o (is_free o) (is_free o) R (constructs_where is on_spread) (λ t. kind_of t ≡ k)

    before_row : (p : Profile) → p.conditions ≡ core_conditions o → ((t : Tree) → p.writes t → is (kind_of t) (label_of t) (fields_of t) ≡ false) → ((h : Hook) (t : Tree) → is_value (kind_of t) ≡ true → is_construct (p.constructs h) t ≡ false) → IsStable p.rule is → ((h : Hook) → IsStable R (p.constructs h)) → AreSeparate p row
    before_row p same written plain stable own = record {
      makes = λ h t m. plain h t (ap is_value m ∙ value);
      first_writes = λ h t w. none_where is on_spread h t (written t w);
      second_writes = λ h t w. absurd w;
      first_stable = own;
      second_stable = where_stable is p.rule stable on_spread;
      before = λ n t. ap (λ (c : Conditions). c.before n t) (sym same);
      after = λ n t. ap (λ (c : Conditions). c.after n t) (sym same);
    }

    row_powers : ((t : Tree) → IsCallOrAssignment t → is (kind_of t) (label_of t) (fields_of t) ≡ false) → IsStable (exponentiation_profile o).rule is → IsStable R is_lowered_power → AreSeparate row (exponentiation_profile o)
    row_powers raised stable own = record {
      makes = λ h t m. none_where is on_spread h t (raised t m);
      first_writes = λ h t w. absurd w;
      second_writes = λ h t w. absurd w;
      first_stable = where_stable is (exponentiation_profile o).rule stable on_spread;
      second_stable = power_stable R own on_power;
      before = λ n t. refl;
      after = λ n t. refl;
    }

    coalescing_row : IsStable (nullish_coalescing_profile o).rule is → IsStable R is_nullish_coalescing → AreSeparate (nullish_coalescing_profile o) row
    coalescing_row stable own = before_row (nullish_coalescing_profile o) refl (λ t w. absurd w) (λ h t v. no_coalescing on_nullish h t (value_plain t v).0) stable (coalescing_stable R own on_nullish)

    chains_row : IsStable (chain_profile o).rule is → AreSeparate (chain_profile o) row
    chains_row stable = before_row (chain_profile o) refl (λ t w. absurd w) (λ h t v. no_chain o h t (value_plain t v).1) stable (chain_stable R o)

    assignments_row : IsStable (logical_assignment_profile o).rule is → IsStable R is_lowered_assignment → AreSeparate (logical_assignment_profile o) row
    assignments_row stable own = before_row (logical_assignment_profile o) refl (λ t w. absurd w) (λ h t v. no_assignment on_logical h t (value_plain t v).2) stable (assignment_stable R own on_logical)

    catches_row : ((t : Tree) → is_object_kind (kind_of t) ≡ false → is (kind_of t) (label_of t) (fields_of t) ≡ false) → IsStable (optional_catch_profile o).rule is → IsStable R is_optional_catch → AreSeparate (optional_catch_profile o) row
    catches_row plain stable own = before_row (optional_catch_profile o) refl (λ t w. plain t (clause_no_object t (clause_written t w))) (λ h t v. no_catch on_catch h t (value_plain t v).3) stable (catch_stable R own on_catch)

    exports_row : ((t : Tree) → is_object_kind (kind_of t) ≡ false → is (kind_of t) (label_of t) (fields_of t) ≡ false) → AreSeparate (namespace_profile o) row
    exports_row plain = exports_before row refl (λ h t w. none_where is on_spread h t (plain t (module_no_object t w)))

  abbrev spreads : Site → Ledger → Spot → Ledger → Spot → Type 0
  spreads = object_spread_under o

  abbrev rests : Site → Ledger → Spot → Ledger → Spot → Type 0
  rests = rest_assignment_under o

  coalescing_spreads : AreSeparate (nullish_coalescing_profile o) (object_spread_profile o)
  coalescing_spreads = coalescing_row spreads is_object_spread CallExpression refl rows.nullish_coalescing.object_spread rows.object_spread.nullish_coalescing

  coalescing_rests : AreSeparate (nullish_coalescing_profile o) (rest_assignment_profile o)
  coalescing_rests = coalescing_row rests is_lowered_rest SequenceExpression refl rows.nullish_coalescing.rest_assignment rows.rest_assignment.nullish_coalescing

  chains_spreads : AreSeparate (chain_profile o) (object_spread_profile o)
  chains_spreads = chains_row spreads is_object_spread CallExpression refl rows.optional_chaining.object_spread

  chains_rests : AreSeparate (chain_profile o) (rest_assignment_profile o)
  chains_rests = chains_row rests is_lowered_rest SequenceExpression refl rows.optional_chaining.rest_assignment

  assignments_spreads : AreSeparate (logical_assignment_profile o) (object_spread_profile o)
  assignments_spreads = assignments_row spreads is_object_spread CallExpression refl rows.logical_assignment.object_spread rows.object_spread.logical_assignment

  assignments_rests : AreSeparate (logical_assignment_profile o) (rest_assignment_profile o)
  assignments_rests = assignments_row rests is_lowered_rest SequenceExpression refl rows.logical_assignment.rest_assignment rows.rest_assignment.logical_assignment

  catches_spreads : AreSeparate (optional_catch_profile o) (object_spread_profile o)
  catches_spreads = catches_row spreads is_object_spread CallExpression refl (λ t e. (no_object t e).0) rows.optional_catch.object_spread rows.object_spread.optional_catch

  catches_rests : AreSeparate (optional_catch_profile o) (rest_assignment_profile o)
  catches_rests = catches_row rests is_lowered_rest SequenceExpression refl (λ t e. (no_object t e).1) rows.optional_catch.rest_assignment rows.rest_assignment.optional_catch

  exports_spreads : AreSeparate (namespace_profile o) (object_spread_profile o)
  exports_spreads = exports_row spreads is_object_spread CallExpression refl (λ t e. (no_object t e).0)

  exports_rests : AreSeparate (namespace_profile o) (rest_assignment_profile o)
  exports_rests = exports_row rests is_lowered_rest SequenceExpression refl (λ t e. (no_object t e).1)

  spreads_powers : AreSeparate (object_spread_profile o) (exponentiation_profile o)
  spreads_powers = row_powers spreads is_object_spread CallExpression refl (λ t m. (raised_no_object t m).0) rows.exponentiation.object_spread rows.object_spread.exponentiation

  rests_powers : AreSeparate (rest_assignment_profile o) (exponentiation_profile o)
  rests_powers = row_powers rests is_lowered_rest SequenceExpression refl (λ t m. (raised_no_object t m).1) rows.exponentiation.rest_assignment rows.rest_assignment.exponentiation

  spreads_rests : AreSeparate (object_spread_profile o) (rest_assignment_profile o)
  spreads_rests = before_row rests is_lowered_rest SequenceExpression refl (object_spread_profile o) refl (λ t w. absurd w) (λ h t v. none_where is_object_spread on_spread h t (no_object t (value_plain t v).4).0) rows.object_spread.rest_assignment (where_stable is_object_spread rests rows.rest_assignment.object_spread on_spread)

  -- WHAT IS WRITTEN for lists and bodies is none of them

  common_from : (q : Profile) → q.conditions ≡ core_conditions o → ((h : Hook) (t : Tree) → MayBeWritten t → is_construct (q.constructs h) t ≡ false) → ((h : Hook) → IsStable (common_profile o).rule (q.constructs h)) → AreSeparate (common_profile o) q
  common_from q same written stable = record {
    makes = λ h t m. refl;
    first_writes = written;
    second_writes = λ h t w. refl;
    first_stable = λ h n s s' k l first fs gs stand step free. refl;
    second_stable = stable;
    before = λ n t. ap (λ (c : Conditions). c.before n t) same;
    after = λ n t. ap (λ (c : Conditions). c.after n t) same;
  }

  common_assignments : AreSeparate (common_profile o) (logical_assignment_profile o)
  common_assignments = common_from (logical_assignment_profile o) refl (λ h t w. no_assignment on_logical h t (written_plain t w).2) (assignment_stable (common_profile o).rule rows.writing.logical_assignment on_logical)

  common_coalescing : AreSeparate (common_profile o) (nullish_coalescing_profile o)
  common_coalescing = common_from (nullish_coalescing_profile o) refl (λ h t w. no_coalescing on_nullish h t (written_plain t w).0) (coalescing_stable (common_profile o).rule rows.writing.nullish_coalescing on_nullish)

  common_chains : AreSeparate (common_profile o) (chain_profile o)
  common_chains = common_from (chain_profile o) refl (λ h t w. no_chain o h t (written_plain t w).1) (chain_stable (common_profile o).rule o)

  common_powers : AreSeparate (common_profile o) (exponentiation_profile o)
  common_powers = common_from (exponentiation_profile o) refl (λ h t w. no_power on_power h t (written_power t w)) (power_stable (common_profile o).rule rows.writing.exponentiation on_power)

  common_catches : AreSeparate (common_profile o) (optional_catch_profile o)
  common_catches = common_from (optional_catch_profile o) refl (λ h t w. no_catch on_catch h t (written_no_clause t w)) (catch_stable (common_profile o).rule rows.writing.optional_catch on_catch)

  common_spreads : AreSeparate (common_profile o) (object_spread_profile o)
  common_spreads = common_from (object_spread_profile o) refl (λ h t w. none_where is_object_spread on_spread h t (no_object t (written_no_object t w)).0) (where_stable is_object_spread (common_profile o).rule rows.writing.object_spread on_spread)

  common_rests : AreSeparate (common_profile o) (rest_assignment_profile o)
  common_rests = common_from (rest_assignment_profile o) refl (λ h t w. none_where is_lowered_rest on_spread h t (no_object t (written_no_object t w)).1) (where_stable is_lowered_rest (common_profile o).rule rows.writing.rest_assignment on_spread)

  -- TOGETHER

  pub expressions_apart : AreApart (nullish_coalescing_profile o) (chain_profile o)
  expressions_apart = apart (nullish_coalescing_profile o) (chain_profile o) coalescing_chains (record { none_late = λ k l fs. refl; none_later = λ t w. refl; counts_after = λ n t. refl }) (λ n t e. e)

  pub es2020_apart : AreApart (expressions_profile o) (namespace_profile o)
  es2020_apart = apart (expressions_profile o) (namespace_profile o) (both_separate_from (nullish_coalescing_profile o) (chain_profile o) (namespace_profile o) coalescing_exports chains_exports) (record { none_late = λ k l fs. refl; none_later = λ t w. refl; counts_after = λ n t. refl }) (λ n t e. e)

  -- one type before those of ECMAScript 2020
  before_es2020 : (p : Profile) → AreSeparate p (nullish_coalescing_profile o) → AreSeparate p (chain_profile o) → AreSeparate p (namespace_profile o) → AreSeparate p (es2020_profile o)
  before_es2020 p coalescing chains exports = separate_from_both p (expressions_profile o) (namespace_profile o) (separate_from_both p (nullish_coalescing_profile o) (chain_profile o) coalescing chains) exports

  pub es2018_apart : AreApart (object_spread_profile o) (rest_assignment_profile o)
  es2018_apart = apart (object_spread_profile o) (rest_assignment_profile o) spreads_rests (record { none_late = λ k l fs. refl; none_later = λ t w. refl; counts_after = λ n t. refl }) (λ n t e. e)

  -- catch clauses, then those of ECMAScript 2018 and then exponentiations
  abbrev values_profile : Profile
  values_profile = both_profile (es2018_profile o) (es2016_profile o)

  pub values_apart : AreApart (es2018_profile o) (es2016_profile o)
  values_apart = apart (es2018_profile o) (es2016_profile o) (both_separate_from (object_spread_profile o) (rest_assignment_profile o) (es2016_profile o) spreads_powers rests_powers) (record { none_late = λ k l fs. refl; none_later = λ t w. refl; counts_after = λ n t. refl }) (λ n t e. e)

  abbrev last_profile : Profile
  last_profile = both_profile (es2019_profile o) values_profile

  -- one type before those of ECMAScript 2018
  before_es2018 : (p : Profile) → AreSeparate p (object_spread_profile o) → AreSeparate p (rest_assignment_profile o) → AreSeparate p (es2018_profile o)
  before_es2018 p = separate_from_both p (object_spread_profile o) (rest_assignment_profile o)

  pub last_apart : AreApart (es2019_profile o) values_profile
  last_apart = apart (es2019_profile o) values_profile (separate_from_both (es2019_profile o) (es2018_profile o) (es2016_profile o) (before_es2018 (es2019_profile o) catches_spreads catches_rests) catches_powers) (record { none_late = λ k l fs. refl; none_later = λ t w. refl; counts_after = λ n t. refl }) (λ n t e. e)

  -- and before all of these
  before_last : (p : Profile) → AreSeparate p (optional_catch_profile o) → AreSeparate p (es2018_profile o) → AreSeparate p (exponentiation_profile o) → AreSeparate p last_profile
  before_last p catches objects powers = separate_from_both p (es2019_profile o) values_profile catches (separate_from_both p (es2018_profile o) (es2016_profile o) objects powers)

  later_separate : AreSeparate (es2020_profile o) last_profile
  later_separate =
      both_separate_from (expressions_profile o) (namespace_profile o) last_profile
      (both_separate_from (nullish_coalescing_profile o) (chain_profile o) last_profile (before_last (nullish_coalescing_profile o) coalescing_catches (before_es2018 (nullish_coalescing_profile o) coalescing_spreads coalescing_rests) coalescing_powers) (before_last (chain_profile o) chains_catches (before_es2018 (chain_profile o) chains_spreads chains_rests) chains_powers))
      (before_last (namespace_profile o) exports_catches (before_es2018 (namespace_profile o) exports_spreads exports_rests) exports_powers)

  pub later_apart : AreApart (es2020_profile o) last_profile
  later_apart = apart (es2020_profile o) last_profile later_separate (record { none_late = λ k l fs. refl; none_later = λ t w. refl; counts_after = λ n t. refl }) (λ n t e. e)

  pub editions_apart : AreApart (es2021_profile o) (both_profile (es2020_profile o) last_profile)
  editions_apart =
      apart (es2021_profile o) (both_profile (es2020_profile o) last_profile)
      (separate_from_both (es2021_profile o) (es2020_profile o) last_profile (before_es2020 (es2021_profile o) assignments_coalescing assignments_chains assignments_exports) (before_last (es2021_profile o) assignments_catches (before_es2018 (es2021_profile o) assignments_spreads assignments_rests) assignments_powers)) (record { none_late = λ k l fs. refl; none_later = λ t w. refl; counts_after = λ n t. refl }) (λ n t e. e)

  -- the type that writes comes before all
  pub all_apart : AreApart (common_profile o) (both_profile (es2021_profile o) (both_profile (es2020_profile o) last_profile))
  all_apart =
      apart (common_profile o) (both_profile (es2021_profile o) (both_profile (es2020_profile o) last_profile))
      (separate_from_both (common_profile o) (es2021_profile o) (both_profile (es2020_profile o) last_profile) common_assignments
      (separate_from_both (common_profile o) (es2020_profile o) last_profile (before_es2020 (common_profile o) common_coalescing common_chains common_exports) (before_last (common_profile o) common_catches (before_es2018 (common_profile o) common_spreads common_rests) common_powers))) (record { none_late = λ k l fs. refl; none_later = λ t w. refl; counts_after = λ n t. refl }) (λ n t e. e)

  -- AFTER THE PROGRAM: what a type writes, one that acted there before it doesn't take away

  ends_none : (p : Profile) → EndsApart p no_ending
  ends_none p t w = refl

  ends_both : (p : Profile) (e f : Ending) → EndsApart p e → EndsApart p f → EndsApart p (both_endings e f)
  ends_both p e f x y t w = neither (is_construct e.constructs t) (is_construct f.constructs t) (x t w) (y t w)

  pub expressions_end : EndsApart (nullish_coalescing_profile o) no_ending
  expressions_end = ends_none (nullish_coalescing_profile o)

  pub es2020_end : EndsApart (expressions_profile o) (namespace_ending o)
  es2020_end t w = elim w [ inl i ↦ absurd i | inr j ↦ absurd j ]

  pub es2018_end : EndsApart (object_spread_profile o) no_ending
  es2018_end = ends_none (object_spread_profile o)

  pub values_end : EndsApart (es2018_profile o) no_ending
  values_end = ends_none (es2018_profile o)

  pub last_end : EndsApart (es2019_profile o) (both_endings es2018_ending no_ending)
  last_end t w = refl

  pub later_end : EndsApart (es2020_profile o) last_ending
  later_end t w = refl

  pub editions_end : EndsApart (es2021_profile o) (both_endings (es2020_ending o) last_ending)
  editions_end t w = absurd w

  pub all_end : EndsApart (common_profile o) (editions_ending o)
  all_end =
      ends_both (common_profile o) no_ending (both_endings (es2020_ending o) last_ending) (ends_none (common_profile o))
      (ends_both (common_profile o) (es2020_ending o) last_ending
      (ends_both (common_profile o) (both_endings no_ending no_ending) (namespace_ending o) (λ t w. refl) (ends_apart_from o (common_profile o) written_no_export)) (λ t w. refl))
