-- The wrap rule: `function f(a = b.c ?? 1) {}` becomes `function f(a = (() => b.c ?? 1)()) {}`. An expression e in a slot becomes
-- `(() => e)()` where it holds a construct that the options ask for whose lowering may take or declare a temporary, so that
-- the temporary has a list of its own.
use Rattle.std.specs.Prelude.{◌≡◌, ◌&&◌, ◌||◌, Bool, true, false, List, [], ◌∷◌, bytes_eq, codes, is_some}
use Rattle.es_tree.specs.Constructs.{field_at, is_chain, is_exponentiation, is_logical_assignment, is_nullish_coalescing}
use Rattle.es_tree.specs.HasForm.{same_type}
use Rattle.es_tree.specs.Names.{first_text}
use Rattle.es_tree.specs.Parens.{without_parens}
use Rattle.es_tree.specs.RestTargets.{is_rest_target}
use Rattle.es_tree.specs.declared.ast_type.AstType.{AstType}
use Rattle.es_tree.specs.declared.ast_type.AstType.TheVariants.{AssignmentExpression, CallExpression, MemberExpression}
use Rattle.es_tree.specs.declared.options.EnvOptions.{EnvOptions}
use Rattle.es_tree.specs.Tree.{Tree, node, Label, Fields, done, ◌then◌, Field, one, many, empty, kind_of, label_of}
use Rattle.es_runs.specs.Rules.{in_place_of}
use Rattle.es_semantic.specs.RolesOf.{reads}
use Rattle.es_resolution.specs.Declarations.{Bound}
use Rattle.es_steps.specs.Nodes.{arrow_node}
use Rattle.es_steps.specs.Slots.{holds, is_slot, in_open_slot}
use Rattle.es_steps.specs.Steps.{Whole, Site, Ledger, Spot, at_node, IsExpression}

-- WHAT IS WRAPPED FOR

abbrev pub is_member_target : Field → Bool
is_member_target (one t) = same_type (kind_of (without_parens t)) MemberExpression
is_member_target _ = false

-- A logical assignment to a member, and one by `??=` to a name where what it becomes is lowered too.
abbrev pub takes_for_target : EnvOptions → Label → Fields → Bool
takes_for_target o l fs = is_member_target (field_at 0 fs) || (o.es2020.nullish_coalescing_operator && bytes_eq (first_text l.texts) (codes "??="))

-- whether the options ask to lower this node, and its lowering may take a temporary or declares one
abbrev pub is_wrapped_for : EnvOptions → AstType → Label → Fields → Bool
is_wrapped_for o k l fs =
    (o.es2020.nullish_coalescing_operator && is_nullish_coalescing k l fs)
    || (o.es2020.optional_chaining && is_chain k l fs)
    || (o.es2016.exponentiation_operator && same_type k AssignmentExpression && is_exponentiation k l fs)
    || (o.es2021.logical_assignment_operators && is_logical_assignment k l fs && takes_for_target o l fs)
    || (is_some o.es2018.object_rest_spread && same_type k AssignmentExpression && is_rest_target (field_at 0 fs))

-- THE RULE

-- `(() => e)()` in the place of e
abbrev pub called_arrow : Tree → Tree
called_arrow e = node CallExpression (record (in_place_of (label_of e)) { flags = false ∷ [] }) (one (arrow_node e) then many empty then done)

pub data WrapRule (o : EnvOptions) : Site → Ledger → Spot → Ledger → Spot → Type 0 where
  wraps : {n : Site} {s : Ledger} {e : Tree} → n.role ≡ reads → IsExpression e → is_slot n.above ≡ true → holds (is_wrapped_for o) e ≡ true → WrapRule o n s (at_node e) s (at_node (called_arrow e))

-- THE BAN: a rule that takes temporaries doesn't act in a slot that isn't wrapped yet

abbrev pub takes_one : List Bound → Bool
takes_one [] = false
takes_one (b ∷ bs) = true

pub record OutsideSlots (R : Site → Whole → List Bound → Tree → Tree → Type 0) (n : Site) (w : Whole) (bs : List Bound) (t u : Tree) : Type 0 where
  pub rule : R n w bs t u
  pub outside : (takes_one bs && in_open_slot n.above) ≡ false
