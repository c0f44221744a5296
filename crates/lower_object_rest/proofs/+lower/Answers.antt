use Rattle.std.proofs.Common.{List, ap, append_assoc, arith, length, refl, subst, sym, ◌+◌, ◌++◌, ◌==◌, ◌^◌, ◌∙◌, ◌∷◌, ◌≡◌, [], ℕ}
use Rattle.std.proofs.lemmas.Bool.{eqb-true}
use Rattle.std.specs.Prelude.{Option, false}
use Rattle.std.specs.Vec.Iter.{into_iter_items}
use Rattle.es_tree.specs.Arity.{maybe}
use Rattle.es_tree.specs.Heads.{head_of, label}
use Rattle.es_tree.specs.Tree.{Tree, done, node, one, trees, ◌then◌}
use Rattle.es_tree.specs.Words.{Text}
use Rattle.es_tree.specs.declared.ast_type.AstType.TheVariants.{VariableDeclarator}
use Rattle.es_tree.specs.declared.kind.Kind.TheVariants.{ObjectPattern as k-ObjectPattern, VariableDeclarator as k-VariableDeclarator}
use Rattle.es_resolution.specs.Seen.{seen, seen_among}
use Rattle.es_steps.specs.Nodes.{declarator_with, made}
use Rattle.es_steps.specs.ObjectRest.{declares_as}
use Rattle.es_changes.specs.Moments.{Moment, whole_at}
use Rattle.es_rest_rows.specs.RestRows.{group}
use Rattle.lower_nodes.specs.Nodes.{owed}
use Rattle.lower_temporaries.specs.SeenTrees.{no_bindings}
use Rattle.lower_temporaries.specs.Takings.{moment_of}
use Rattle.lower_temporaries.proofs.Takings.{reads-ids}
use Rattle.lower_object_rest.specs.Declarators.{AddsAll, AddsPattern}
use Rattle.lower_object_rest.specs.Parts.{TakesApart, pattern_label}
use Rattle.lower_object_rest.specs.Profile.{nested_ids_by, rest_owes}
use Rattle.lower_object_rest.proofs.Composition.{LoweredSoFar, so-far-all, so-far-next, so-far-none, so-far-room}
use Rattle.lower_object_rest.proofs.Costs.{declarators_work, owed-name, owed-pattern, owed-plain, owed-without, work-size, work-within}
use Rattle.lower_object_rest.proofs.Declarators.{kept-source, lowers-declarator, lowers-kept-source, lowers-same, lowers-stored-source, lowers-taken, seen-name, taken-room, work-taken}
use Rattle.lower_object_rest.proofs.GroupsMade.{none-of}
use Rattle.lower_object_rest.proofs.NestedMade.{PartsSoFar, adds-nested, adds-plain, out-owed, out-work, parts-behind, parts-ended, parts-so-far-next, parts-so-far-none, parts-so-far-plain, parts-so-far-room, parts-so-far-size}
use Rattle.lower_object_rest.proofs.+lower.Goals as goal

-- DECLARATORS

pub declarations::add_declarators-loop-declarator-init : goal.declarations::add_declarators-loop-declarator-init
declarations::add_declarators-loop-declarator-init t c =
    let ctx = c.args.ctx.now in
    let all = c.args.declarators.items in
    let ts = c.args.made.now.items in
    subst (λ (rest : List Tree). LoweredSoFar ctx ctx all ts ts rest) (sym c.into_iter-declarator-iterator.ensures.into_iter_gives.0) (so-far-none ctx all ts)

pub declarations::add_declarators-add_declarator-requires : goal.declarations::add_declarators-add_declarator-requires
declarations::add_declarators-add_declarator-requires t c =
    let old = c.args.ctx.now in
    let mid = c.loop-declarator.ctx in
    let all = c.args.declarators.items in
    let ts = c.args.made.now.items in
    let us = c.loop-declarator.made.items in
    let rest = into_iter_items c.next.new.self in
    let d = c.in-Some.declarator in
    let so_far = subst (λ (xs : List Tree). LoweredSoFar old mid all ts us xs) c.in-Some.ensures.steps.0 c.loop-declarator.invariant in
    let whole = ap (λ (xs : List Tree). declarators_work (trees xs)) so_far.are in
    (omega (arith, whole, work-within so_far.first d rest), so-far-room old mid all ts us d rest so_far c.requires.room)

pub declarations::add_declarators-loop-declarator-preserved : goal.declarations::add_declarators-loop-declarator-preserved
declarations::add_declarators-loop-declarator-preserved t c =
    let old = c.args.ctx.now in
    let mid = c.loop-declarator.ctx in
    let all = c.args.declarators.items in
    let ts = c.args.made.now.items in
    let us = c.loop-declarator.made.items in
    so-far-next old mid all ts us c.in-Some.declarator (into_iter_items c.next.new.self) (subst (λ (xs : List Tree). LoweredSoFar old mid all ts us xs) c.in-Some.ensures.steps.0 c.loop-declarator.invariant) c.add_declarator.new.ctx c.add_declarator.new.made.items c.in_ok-add_declarator.ensures

pub declarations::add_declarators-returns : goal.declarations::add_declarators-returns
declarations::add_declarators-returns t c =
    let ended = c.loop-declarator.declarator-iterator in
    so-far-all c.args.ctx.now c.loop-declarator.ctx c.args.declarators.items c.args.made.now.items c.loop-declarator.made.items (into_iter_items ended) (sym ended.rest.ok.0 ∙ c.in-None.ensures.steps.0) c.loop-declarator.invariant

pub declarations::add_declarator-returns-then-not-is_lowerable : goal.declarations::add_declarator-returns-then-not-is_lowerable
declarations::add_declarator-returns-then-not-is_lowerable t c = record {
  added = _;
  are = c.in_ok-push.ensures.items;
  lowers = lowers-same c.args.ctx.now c.args.declarator (sym c.is_lowerable.ensures ∙ c.if-not-is_lowerable.true);
}

pub declarations::add_declarator-returns : goal.declarations::add_declarator-returns
declarations::add_declarator-returns t c =
    let x = c.open-binding.result in
    let l = label x.id x.span (head_of k-VariableDeclarator) in
    let new = c.add_pattern.new.ctx in
    let adds = c.in_ok-add_pattern.ensures in
    let opened : declares_as l x.binding c.in-Some.source ≡ c.args.declarator = ap (λ (o : Option Tree). node VariableDeclarator l (one x.binding then maybe o then done)) (sym c.in-Some.is) ∙ c.open-binding.ensures in
    subst (λ (d : Tree). AddsAll c.args.ctx.now new (d ∷ []) c.args.made.now.items c.add_pattern.new.made.items) opened (record { added = adds.added; are = adds.are; lowers = lowers-declarator c.args.ctx.now new l x.binding c.in-Some.source adds.added adds.lowers })

-- A PATTERN AND ITS SOURCE

pub declarations::add_pattern-add_kept-requires : goal.declarations::add_pattern-add_kept-requires
declarations::add_pattern-add_kept-requires t c =
    (omega arith, (c.requires.plain, (kept-source (whole_at (moment_of c.args.ctx.now)) c.args.pattern c.args.source (λ names. sym c.if-kept.true ∙ c.in_ok-kept.ensures names), omega (arith, c.requires.room))))

pub declarations::add_pattern-store-requires : goal.declarations::add_pattern-store-requires
declarations::add_pattern-store-requires t c = record { room = omega (arith, owed-plain c.args.pattern c.requires.plain, c.requires.room) }

pub declarations::add_pattern-add_kept-requires-2 : goal.declarations::add_pattern-add_kept-requires-2
declarations::add_pattern-add_kept-requires-2 t c =
    let stored = c.in_ok-stored.ensures in
    (omega arith, (c.requires.plain, (seen-name c.in_ok-stored.name stored.name (stored.read_is no_bindings), omega (arith, stored.takes.next_is, c.requires.room))))

pub declarations::add_pattern-returns-then-kept : goal.declarations::add_pattern-returns-then-kept
declarations::add_pattern-returns-then-kept t c =
    let adds = c.in_ok-add_kept.ensures in
    record { added = adds.added; are = adds.are; lowers = lowers-kept-source c.args.ctx.now c.add_kept.new.ctx c.args.pattern c.args.source adds.added (λ names. sym (c.in_ok-kept.ensures names) ∙ c.if-kept.true) adds.lowers }

pub declarations::add_pattern-returns : goal.declarations::add_pattern-returns
declarations::add_pattern-returns t c =
    let stored = c.in_ok-stored.stored in
    let adds = c.in_ok-add_kept-2.ensures in
    record {
      added = stored ∷ adds.added;
      are = adds.are ∙ (ap (λ (ts : List Tree). ts ++ adds.added) c.in_ok-push.ensures.items ∙ append_assoc c.args.made.now.items (stored ∷ []) adds.added);
      lowers = lowers-stored-source c.args.ctx.now c.store.new.ctx c.add_kept-2.new.ctx c.args.pattern c.args.source stored c.in_ok-stored.name adds.added c.requires.plain (λ names. sym (c.in_ok-kept.ensures names) ∙ c.if-kept.false) c.in_ok-stored.ensures adds.lowers;
    }

-- A SOURCE THAT IS KEPT

pub declarations::add_kept-take-requires-clause-room : goal.declarations::add_kept-take-requires-clause-room
declarations::add_kept-take-requires-clause-room t c =
    let r = c.in-WithRest.rest in
    let parts : TakesApart c.args.pattern r = c.in-WithRest.ensures in
    omega (arith, c.requires.room, ap (owed rest_owes) parts.pattern, owed-pattern (pattern_label r) parts.rest (trees r.properties.items) r.target parts.name)

pub declarations::add_kept-add_declarators-requires : goal.declarations::add_kept-add_declarators-requires
declarations::add_kept-add_declarators-requires t c =
    let old = c.args.ctx.now in
    let mid = c.take.new.ctx in
    let ts = c.in_ok-declarators-in-WithRest.declarators.items in
    let taken = c.in_ok-declarators-in-WithRest.ensures c.args.pattern c.in-WithRest.ensures in
    (omega (arith, work-taken old mid c.args.pattern c.args.source ts taken c.requires.name), taken-room old mid c.args.pattern c.args.source ts taken c.requires.name c.requires.room)

pub declarations::add_kept-returns-in_ok-add_declarators-in-WithRest : goal.declarations::add_kept-returns-in_ok-add_declarators-in-WithRest
declarations::add_kept-returns-in_ok-add_declarators-in-WithRest t c =
    let ts = c.in_ok-declarators-in-WithRest.declarators.items in
    let taken = c.in_ok-declarators-in-WithRest.ensures c.args.pattern c.in-WithRest.ensures in
    let adds = c.in_ok-add_declarators-in-WithRest.ensures in
    record { added = adds.added; are = adds.are; lowers = lowers-taken c.args.ctx.now c.take.new.ctx c.add_declarators.new.ctx c.args.pattern c.args.source ts adds.added c.requires.name taken adds.lowers }

-- PROPERTIES

pub nested::add_properties-loop-property-init : goal.nested::add_properties-loop-property-init
nested::add_properties-loop-property-init t c = parts-so-far-none _ _ _ _ _ _ c.into_iter-property-iterator.ensures.into_iter_gives.0 c.new-group.ensures.items

pub nested::add_properties-add_property-requires : goal.nested::add_properties-add_property-requires
nested::add_properties-add_property-requires t c =
    let old = c.args.ctx.now in
    let mid = c.loop-property.ctx in
    let all = c.args.pattern.properties.items in
    let rest = into_iter_items c.next.new.self in
    let s = c.args.source in
    let p = c.in-Some.property in
    let these = c.loop-property.group.items in
    let us = c.args.made.now.items in
    let vs = c.loop-property.made.items in
    let so_far = subst (λ (xs : List Tree). PartsSoFar old mid all xs s these us vs) c.in-Some.ensures.steps.0 c.loop-property.invariant in
    let size = parts-so-far-size old mid all rest s p these us vs so_far in
    let whole = owed-without (label c.args.pattern.id c.args.pattern.span (head_of k-ObjectPattern)) (trees all) c.requires.plain in
    let plain = parts-so-far-plain old mid all rest s p these us vs so_far c.requires.plain in
    let room = parts-so-far-room old mid all rest s p these us vs so_far (2 ^ 32 + 2) plain (omega (arith, c.requires.room, whole)) in
    (omega (arith, size, work-size p), (plain, (c.requires.name, omega (arith, room))))

pub nested::add_properties-loop-property-preserved : goal.nested::add_properties-loop-property-preserved
nested::add_properties-loop-property-preserved t c =
    let old = c.args.ctx.now in
    let mid = c.loop-property.ctx in
    let all = c.args.pattern.properties.items in
    let s = c.args.source in
    let these = c.loop-property.group.items in
    let us = c.args.made.now.items in
    let vs = c.loop-property.made.items in
    parts-so-far-next old mid all (into_iter_items c.next.new.self) s c.in-Some.property these us vs (subst (λ (xs : List Tree). PartsSoFar old mid all xs s these us vs) c.in-Some.ensures.steps.0 c.loop-property.invariant) c.add_property.new.ctx c.add_property.new.group.items c.add_property.new.made.items c.in_ok-add_property.ensures

pub nested::add_properties-returns-then-is_empty : goal.nested::add_properties-returns-then-is_empty
nested::add_properties-returns-then-is_empty t c =
    let q = c.args.pattern in
    let g = c.loop-property.group in
    let ended = c.loop-property.property-iterator in
    let none = none-of g.items (omega (arith, eqb-true g.len 0 (sym c.is_empty.ensures ∙ c.if-is_empty.true), g.ok.0)) in
    parts-ended c.args.ctx.now c.loop-property.ctx q.properties.items (into_iter_items ended) c.args.source g.items c.args.made.now.items c.loop-property.made.items c.loop-property.invariant (sym ended.rest.ok.0 ∙ c.in-None.ensures.steps.0) (label q.id q.span (head_of k-ObjectPattern)) c.requires.plain c.requires.bears c.requires.name none

pub nested::add_properties-returns : goal.nested::add_properties-returns
nested::add_properties-returns t c =
    let q = c.args.pattern in
    let s = c.args.source in
    let g = c.loop-property.group in
    let mid = c.loop-property.ctx in
    let ended = c.loop-property.property-iterator in
    let count : g.len ≡ length g.items = omega (arith, g.ok.0) in
    let some : (length g.items == 0) ≡ false = ap (λ n. n == 0) (sym count) ∙ (sym c.is_empty.ensures ∙ c.if-is_empty.false) in
    let last_is = λ (names : ℕ → Text → Option ℕ). ap (seen names) c.in_ok-last.ensures.made ∙ ap (λ (p : Tree). declarator_with (seen names p) (seen names s)) c.in_ok-pattern.ensures in
    parts-behind c.args.ctx.now mid q.properties.items (into_iter_items ended) s g.items c.args.made.now.items c.loop-property.made.items c.loop-property.invariant (sym ended.rest.ok.0 ∙ c.in-None.ensures.steps.0) (label q.id q.span (head_of k-ObjectPattern)) c.requires.plain c.requires.bears c.requires.name _ c.in_ok-last.last some last_is
    (reads-ids 1 mid _ c.new_variable_declarator.ensures.counted refl (record { used = λ x. refl; made_is = refl }) (record { state = refl; options = refl; around = refl; scopes = refl; place = refl })) _ c.in_ok-push.ensures.items

-- ONE PROPERTY

pub nested::add_property-returns-then-not-bears_rest : goal.nested::add_property-returns-then-not-bears_rest
nested::add_property-returns-then-not-bears_rest t c = adds-plain c.args.ctx.now c.args.source.now c.args.property c.args.group.now.items c.args.made.now.items _ c.requires.plain (sym c.bears_rest.ensures ∙ c.if-not-bears_rest.true) c.in_ok-push.ensures.items

pub nested::add_property-add_pattern-requires : goal.nested::add_property-add_pattern-requires
nested::add_property-add_pattern-requires t c =
    let q = c.args.property in
    let old = c.args.ctx.now in
    let mid = c.take_out.new.ctx in
    let out = c.in_ok-property.field-0 in
    let taken = c.in_ok-property.ensures in
    let bears = sym c.bears_rest.ensures ∙ c.if-not-bears_rest.false in
    let next = ap (λ (a : Moment). a.next) c.in_ok-declarator.ensures.reads.moment_is in
    (omega (arith, out-work old mid q out taken), (taken.put.plain, omega (arith, c.requires.room, ap nested_ids_by bears, taken.takes.next_is, next, out-owed old mid q out taken, owed-name out.name (seen-name out.name taken.name (taken.name_is no_bindings)))))

pub nested::add_property-returns : goal.nested::add_property-returns
nested::add_property-returns t c =
    let q = c.args.property in
    let s = c.args.source.now in
    let these = c.args.group.now.items in
    let us = c.args.made.now.items in
    let old = c.args.ctx.now in
    let mid = c.take_out.new.ctx in
    let between = c.new_group.new.ctx in
    let new = c.add_pattern.new.ctx in
    let out = c.in_ok-property.field-0 in
    let g = c.in_ok-declarator.declarator in
    let bears = sym c.bears_rest.ensures ∙ c.if-not-bears_rest.false in
    let none : c.replace-closed.new.dest.items ≡ [] = (λ i. (c.replace-closed.ensures.after i).items) ∙ c.new.ensures.items in
    let moved : c.replace-closed.result.items ≡ these ++ out.property ∷ [] = (λ i. (c.replace-closed.ensures.value i).items) ∙ c.in_ok-push-2.ensures.items in
    adds-nested old mid between new s q these us _ c.add_pattern.new.made.items g out c.requires.name bears c.in_ok-property.ensures
    (λ names. c.in_ok-declarator.ensures.made names ∙ ap (λ (qs : List Tree). group (made [] []) (seen names s) (seen_among names (trees qs))) moved) c.in_ok-declarator.ensures.reads
    (subst (λ (ts : List Tree). AddsPattern between new out.pattern out.name ts c.add_pattern.new.made.items) c.in_ok-push-3.ensures.items c.in_ok-add_pattern.ensures) none
