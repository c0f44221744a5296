-- The properties of a pattern, one after another.
use Rattle.std.proofs.Common.{◌≡◌, ◌∙◌, ◌<◌, ◌-◌, ◌^◌, ◌+◌, List, [], ◌∷◌, ◌++◌, append-nil, append_assoc, length, length-append, map, refl, sym, ap, subst, arith}
use Rattle.std.proofs.lemmas.Bool.{and_parts}
use Rattle.std.proofs.lemmas.List.{map-append}
use Rattle.std.specs.Prelude.{true, false}
use Rattle.es_tree.specs.Constructs.{any_kind, is_rest}
use Rattle.es_tree.specs.Tree.{Tree, node, trees, trees_size}
use Rattle.es_tree.specs.declared.ast_type.AstType.TheVariants.{TargetProperty}
use Rattle.es_tree.specs.declared.node.Field.TheVariants.{One}
use Rattle.es_scope.specs.declared.context.TraverseCtx.{TraverseCtx}
use Rattle.es_resolution.specs.Declarations.{Bound}
use Rattle.es_resolution.specs.Seen.{seen}
use Rattle.es_runs.proofs.OptionalChainingWeights.{tests_size-append}
use Rattle.es_steps.specs.Nodes.{identifier}
use Rattle.es_steps.specs.Open.{with_vars}
use Rattle.es_steps.specs.RestAssignments.{Groups}
use Rattle.es_changes.specs.Moments.{whole_at}
use Rattle.es_traverse.specs.Loads.{members_allowance, trees_load}
use Rattle.lower_temporaries.specs.Takings.{moment_of}
use Rattle.lower_temporaries.specs.declared.state.TransformState.{TransformState}
use Rattle.lower_temporaries.proofs.Loads.{trees_load-append}
use Rattle.lower_temporaries.proofs.Pairs.{with_top-there}
use Rattle.lower_temporaries.proofs.Takings.{reads-none, takes-none, takes-then}
use Rattle.lower_rest_assignments.specs.Assignments.{are_properties, is_property}
use Rattle.lower_rest_assignments.specs.Groups.{AddsProperty, SplitsGroups, seen_before}
use Rattle.lower_rest_assignments.specs.declared.groups.OpenGroups.{OpenGroups}
use Rattle.lower_rest_assignments.proofs.Properties.{groups-as}

pub splits-first : (s : Bound) (ctx : TraverseCtx TransformState) (first all rest : List Tree) (g : OpenGroups) → rest ≡ all → g.assignments.items ≡ first → g.properties.items ≡ [] → g.keys.items ≡ [] → g.is_read ≡ false → are_properties (trees all) ≡ true → SplitsGroups s ctx ctx first all rest g
splits-first s ctx first all rest g same assignments properties keys read whole = record {
  made = [];
  ids = 0;
  takes = takes-none (reads-none ctx);
  added = [];
  keys = [];
  assignments_are = assignments ∙ sym (append-nil first);
  keys_are = keys;
  groups = λ names lp ts xs us r. subst (λ (ps : List Tree). Groups (identifier s) lp (whole_at (moment_of ctx)) false [] [] (seen_before names ps ts) xs us) same (groups-as refl read (ap (map (seen names)) properties) refl refl r);
  plain = ap (λ (ps : List Tree). any_kind is_rest (trees ps)) properties;
  whole = ap (λ (ps : List Tree). are_properties (trees ps)) same ∙ whole;
  nodes = omega (arith, ap (λ (ps : List Tree). trees_size (trees ps)) properties, ap (λ (ps : List Tree). trees_size (trees ps)) same);
  lighter = omega (arith, ap (λ (ps : List Tree). trees_load (trees ps)) properties, ap (λ (ps : List Tree). trees_load (trees ps)) same, ap (λ (ps : List Tree). members_allowance (trees ps)) same);
}

-- a property may take twenty
property-allowed : (p : Tree) (rest : List Tree) → is_property p ≡ true → members_allowance (trees (p ∷ rest)) ≡ 20 + members_allowance (trees rest)
property-allowed (node TargetProperty l fs) rest h = refl
property-allowed (node _ l fs) rest h = absurd (cc h)

module _ (s : Bound) (old mid new : TraverseCtx TransformState) (first all rest : List Tree) (p : Tree) (g h : OpenGroups) (so : SplitsGroups s old mid first all (p ∷ rest) g) where
  parts : (is_property p ≡ true) × (are_properties (trees rest) ≡ true)
  parts = and_parts (is_property p) (are_properties (trees rest)) so.whole

  pub splits-whole : is_property p ≡ true
  splits-whole = parts.0

  pub splits-there : 0 < length old.state.var_declarations → 0 < length mid.state.var_declarations
  splits-there there = with_top-there (with_vars so.made) old.state.var_declarations mid.state.var_declarations so.takes.lists_are there

  pub splits-room : old.ast.next + trees_load (trees all) + members_allowance (trees all) < 2 ^ 32 - 1 → mid.ast.next + 9 < 2 ^ 32 - 1
  splits-room room = omega (arith, room, so.lighter, so.takes.next_is, property-allowed p rest parts.0)

  pub splits-next : AddsProperty s mid new p g h → SplitsGroups s old new first all rest h
  splits-next a =
      let lengths = length-append so.made a.made in
      let keys_load = trees_load-append so.keys (a.key ∷ []) in
      let keys_size = tests_size-append so.keys (a.key ∷ []) in
      let added_load = trees_load-append so.added a.added in
      let added_size = tests_size-append so.added a.added in
      record {
        made = so.made ++ a.made;
        ids = so.ids + a.ids;
        takes = takes-then so.takes a.takes;
        added = so.added ++ a.added;
        keys = so.keys ++ a.key ∷ [];
        assignments_are = a.assignments ∙ (ap (λ (ts : List Tree). ts ++ a.added) so.assignments_are ∙ append_assoc first so.added a.added);
        keys_are = a.keys ∙ (ap (λ fs. fs ++ One a.key ∷ []) so.keys_are ∙ sym (map-append One so.keys (a.key ∷ [])));
        groups = λ names lp ts xs us r.
            let later = a.groups names lp (map (seen names) so.keys) (seen_before names rest ts) xs us (groups-as refl refl refl (map-append (seen names) so.keys (a.key ∷ [])) refl r) in
            let earlier = so.groups names lp ts (a.made ++ xs) (map (seen names) a.added ++ us) later in
            subst (λ (ys : List Bound). Groups (identifier s) lp (whole_at (moment_of old)) false [] [] (seen_before names all ts) ys (map (seen names) (so.added ++ a.added) ++ us)) (sym (append_assoc so.made a.made xs))
            (groups-as refl refl refl refl (sym (ap (λ (zs : List Tree). zs ++ us) (map-append (seen names) so.added a.added) ∙ append_assoc (map (seen names) so.added) (map (seen names) a.added) us)) earlier);
        plain = a.plain so.plain;
        whole = parts.1;
        nodes = omega (arith, so.nodes, a.nodes, lengths, keys_size, added_size);
        lighter = omega (arith, so.lighter, a.lighter so.plain, lengths, keys_load, added_load, property-allowed p rest parts.0);
      }

none-of : (ts : List Tree) → length ts ≡ 0 → ts ≡ []
none-of [] e = refl
none-of (t ∷ ts) e = absurd (omega (arith, e))

pub splits-all : (s : Bound) (old new : TraverseCtx TransformState) (first all rest : List Tree) (g : OpenGroups) → length rest ≡ 0 → SplitsGroups s old new first all rest g → SplitsGroups s old new first all [] g
splits-all s old new first all rest g e so = subst (λ (ts : List Tree). SplitsGroups s old new first all ts g) (none-of rest e) so
