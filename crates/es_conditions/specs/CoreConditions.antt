-- The conditions of a visit by the core lowerings: what their hooks count on of a node at its site beside that it fits, in three stages.
-- Before its hooks (`is_fit`) a slot that isn't wrapped yet holds nothing that it would be wrapped for, of what stands further inside it;
-- when slots are wrapped (`is_wrapped`) so is the slot itself; and when chains are lowered (`is_free`) the node is no chain any more,
-- calls none and deletes none.
use Rattle.std.specs.Prelude.{ℕ, zero, suc, ◌&&◌, ◌||◌, not, Bool, true, false, List, [], ◌∷◌, bytes_eq, codes, is_some}
use Rattle.es_tree.specs.Ancestors.{Ancestor, leads_by}
use Rattle.es_tree.specs.Constructs.{field_at, is_exponentiation, is_object_spread}
use Rattle.es_tree.specs.CoreStaticRules.{has_optional_in, is_optional}
use Rattle.es_tree.specs.Names.{first_text}
use Rattle.es_tree.specs.Parens.{without_parens}
use Rattle.es_tree.specs.RestTargets.{is_rest_target}
use Rattle.es_tree.specs.Tree.{Tree, node, Label, Fields, done, ◌then◌, Field, missing, one, many, statements, Trees, empty, ◌before◌, kind_of}
use Rattle.es_tree.specs.Walks.{any_node}
use Rattle.es_tree.specs.Words.{Text}
use Rattle.es_tree.specs.declared.ast_type.AstType.{AstType}
use Rattle.es_tree.specs.declared.ast_type.AstType.TheVariants.{CallExpression, ChainExpression, MemberExpression, ParenthesizedExpression, UnaryExpression}
use Rattle.es_tree.specs.declared.options.EnvOptions.{EnvOptions}
use Rattle.es_runs.specs.OptionalChaining.{is_chain_kind, takes_value}
use Rattle.es_runs.specs.Rules.{strays}
use Rattle.es_steps.specs.Open.{is_body, is_statement_body, nothing_pending, opened_fields}
use Rattle.es_steps.specs.Slots.{holds, in_open_slot, is_slot}
use Rattle.es_steps.specs.Steps.{Site, site_in, site_in_body}
use Rattle.es_steps.specs.WrapRule.{is_wrapped_for}
use Rattle.es_changes.specs.Conditions.{Conditions}

-- EACH NODE

-- the site of the body of an arrow, which is a body of statements or not
abbrev pub body_site : Site → Bool → Tree → Site
body_site n true t = n
body_site n false t = site_in_body n nothing_pending t

-- whether each node of a tree passes a test at its site
abbrev mutual
  pub each_passes : (Site → AstType → Label → Fields → Bool) → Site → Tree → Bool
  each_passes test n (node k l fs) = test n k l fs && each_passes_in test (site_in n k l (opened_fields (is_body k) fs)) (is_body k) fs

  pub each_passes_in : (Site → AstType → Label → Fields → Bool) → (ℕ → Site) → (ℕ → Bool) → Fields → Bool
  each_passes_in test sites bodies done = true
  each_passes_in test sites bodies (f then fs) = each_passes_by test (sites zero) (bodies zero) f && each_passes_in test (λ i. sites (suc i)) (λ i. bodies (suc i)) fs

  pub each_passes_by : (Site → AstType → Label → Fields → Bool) → Site → Bool → Field → Bool
  each_passes_by test n b missing = true
  each_passes_by test n true (one t) = each_passes test (body_site n (is_statement_body t) t) t
  each_passes_by test n false (one t) = each_passes test n t
  each_passes_by test n b (many ts) = each_passes_among test n ts
  each_passes_by test n b (statements ts) = each_passes_among test n ts

  pub each_passes_among : (Site → AstType → Label → Fields → Bool) → Site → Trees → Bool
  each_passes_among test n empty = true
  each_passes_among test n (t before ts) = each_passes test n t && each_passes_among test n ts

-- NAMES THAT ARE ASKED FOR

-- if a name is asked for, it is unbound here
abbrev pub is_unbound_if : Bool → Text → Site → Bool
is_unbound_if asked x n = not asked || not (is_some (n.names.scope x))

-- the node is no exponentiation that is to be lowered (ECMA-262, 13.6), or `Math` is unbound here
abbrev pub is_power_free : EnvOptions → Site → AstType → Label → Fields → Bool
is_power_free o n k l fs = is_unbound_if (o.es2016.exponentiation_operator && is_exponentiation k l fs) (codes "Math") n

-- an object literal with a spread, or an object target with a rest: a helper copies its properties
abbrev pub is_copied : AstType → Label → Fields → Bool
is_copied k l fs = is_object_spread k l fs || is_rest_target (one (node k l fs))

-- the node is none that is to be lowered (13.2.5, 13.15.5), or `babelHelpers` is unbound here
abbrev pub is_copy_free : EnvOptions → Site → AstType → Label → Fields → Bool
is_copy_free o n k l fs = is_unbound_if (is_some o.es2018.object_rest_spread && is_copied k l fs) (codes "babelHelpers") n

-- CHAINS (13.3.9)

-- whether an expression is a chain, maybe in parentheses
abbrev pub is_chain_inside : Tree → Bool
is_chain_inside t = is_chain_kind (kind_of (without_parens t))

abbrev pub is_chain_below : Field → Bool
is_chain_below (one t) = is_chain_inside t
is_chain_below _ = false

abbrev pub is_delete : AstType → Label → Bool
is_delete UnaryExpression l = bytes_eq (first_text l.texts) (codes "delete")
is_delete _ l = false

-- whether a chain in the first field of this ancestor is lowered with it: by a call, by `delete`, or by the chain on whose spine a marked
-- member stands
abbrev pub takes_over : Ancestor → Bool
takes_over a = leads_by CallExpression 0 a || (leads_by MemberExpression 0 a && is_optional a.kind a.label) || (leads_by UnaryExpression 0 a && is_delete a.kind a.label)

-- by the first one around parentheses
abbrev pub is_taken_over : List Ancestor → Bool
is_taken_over [] = false
is_taken_over (a ∷ up) = takes_over a || (leads_by ParenthesizedExpression 0 a && is_taken_over up)

-- whether a chain that stands here can be lowered: its value is taken, or what stands around it is lowered with it
abbrev pub accepts_chain : Site → Bool
accepts_chain n = takes_value n.need.level || is_taken_over n.above

abbrev pub is_chain_placed : EnvOptions → Site → AstType → Bool
is_chain_placed o n k = not (o.es2020.optional_chaining && is_chain_kind k) || accepts_chain n

-- where chains are lowered, marks stand on spines of chains alone, and each chain has one
abbrev pub is_unmarked_chain : AstType → Label → Fields → Bool
is_unmarked_chain ChainExpression l fs = not (has_optional_in fs)
is_unmarked_chain _ l fs = false

abbrev pub are_marked : EnvOptions → Tree → Bool
are_marked o t = not (o.es2020.optional_chaining && (strays false t || any_node is_unmarked_chain t))

-- what stands here is no chain that is lowered with what stands around it, maybe in parentheses
abbrev pub is_no_stray : EnvOptions → Site → Tree → Bool
is_no_stray o n t = not (o.es2020.optional_chaining && is_chain_inside t) || takes_value n.need.level

-- whether a chain is among what stands around
abbrev pub is_in_chain : List Ancestor → Bool
is_in_chain [] = false
is_in_chain (a ∷ up) = is_chain_kind a.kind || is_in_chain up

-- where chains are lowered none stands around: each is lowered before what stands in it is visited
abbrev pub is_past_chains : EnvOptions → Site → Bool
is_past_chains o n = not (o.es2020.optional_chaining && is_in_chain n.above)

-- whether a node is a chain, or a chain is lowered with it: one that it calls, without a mark, or deletes
abbrev pub is_lowered_with_chain : AstType → Label → Fields → Bool
is_lowered_with_chain ChainExpression l fs = true
is_lowered_with_chain CallExpression l fs = not (is_optional CallExpression l) && is_chain_below (field_at 0 fs)
is_lowered_with_chain UnaryExpression l fs = is_delete UnaryExpression l && is_chain_below (field_at 0 fs)
is_lowered_with_chain _ l fs = false

-- an expression with another in the place of what stands inside its parentheses, and the site of that
abbrev pub put_inside : Tree → Tree → Tree
put_inside (node ParenthesizedExpression l (one t then fs)) u = node ParenthesizedExpression l (one (put_inside t u) then fs)
put_inside t u = u

abbrev pub inside_site : Site → Tree → Site
inside_site n (node ParenthesizedExpression l (one t then fs)) = inside_site (site_in n ParenthesizedExpression l (opened_fields (is_body ParenthesizedExpression) (one t then fs)) 0) t
inside_site n t = n

-- SLOTS

-- inside a slot that isn't wrapped yet, and not the slot itself
abbrev pub is_within_slot : Site → Bool
is_within_slot n = in_open_slot n.above && not (is_slot n.above)

-- where this is so, the tree holds nothing that a slot is wrapped for
abbrev pub holds_none_where : Bool → EnvOptions → Tree → Bool
holds_none_where b o t = not (b && holds (is_wrapped_for o) t)

-- THE CONDITIONS

-- of each node: names are unbound where they are asked for, and chains are placed
abbrev pub is_placed : EnvOptions → Site → AstType → Label → Fields → Bool
is_placed o n k l fs = is_power_free o n k l fs && is_copy_free o n k l fs && is_chain_placed o n k

-- what is known at every stage
abbrev pub is_known : EnvOptions → Site → Tree → Bool
is_known o n t = each_passes (is_placed o) n t && are_marked o t && is_no_stray o n t && is_past_chains o n

abbrev pub is_fit : EnvOptions → Site → Tree → Bool
is_fit o n t = holds_none_where (is_within_slot n) o t && is_known o n t

abbrev pub is_wrapped : EnvOptions → Site → Tree → Bool
is_wrapped o n t = holds_none_where (in_open_slot n.above) o t && is_known o n t

-- chains are lowered, at this node
abbrev pub is_settled : EnvOptions → Tree → Bool
is_settled o (node k l fs) = not (o.es2020.optional_chaining && is_lowered_with_chain k l fs)

abbrev pub is_free : EnvOptions → Site → Tree → Bool
is_free o n t = is_wrapped o n t && is_settled o t

abbrev pub core_conditions : EnvOptions → Conditions
core_conditions o = record { before = is_fit o; after = is_free o }
