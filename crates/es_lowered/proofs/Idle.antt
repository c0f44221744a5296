-- Where no pattern with a rest is declared, no row of object rests has a step.
use Rattle.std.proofs.Common.{◌≡◌, ◌∙◌, ℕ, List, Option, refl, sym, ap, subst, true≢false}
use Rattle.std.specs.Prelude.{Bool, true, false, ◌&&◌, ◌||◌, not}
use Rattle.std.proofs.lemmas.Bool.{and_parts, or_from}
use Rattle.es_tree.specs.Constructs.{any_kind, is_object_rest, is_rest}
use Rattle.es_tree.specs.Names.{has_computed}
use Rattle.es_tree.specs.Tree.{Tree, node, Label, Fields, done, ◌then◌, one, many, Trees, empty, ◌before◌, kind_of}
use Rattle.es_tree.specs.declared.ast_type.AstType.TheVariants.{AssignmentPattern, ObjectPattern, PatternProperty, RestElement}
use Rattle.es_steps.specs.Nodes.{joined_trees}
use Rattle.es_resolution.specs.Declarations.{Bound}
use Rattle.es_steps.specs.Open.{Additions, Open, OpenField, OpenFields, OpenTrees, Pending, finished, finished_field, finished_fields, finished_trees, opened}
use Rattle.es_steps.specs.Steps.{FieldStep, FieldsStep, Ledger, Site, Spot, Step, Steps, TreesStep, Whole, at_beside, at_body, at_list, at_node, the_program}
use Rattle.es_steps.specs.Steps.Step.{acts, inside}
use Rattle.es_steps.specs.Steps.FieldsStep.{in_first, in_later}
use Rattle.es_steps.specs.Steps.FieldStep.{acts_on_body, acts_on_list, in_body, in_child, in_children, in_list, in_program, in_target}
use Rattle.es_steps.specs.Steps.TreesStep.{acts_on_flanked, after_flanked, flanks, in_flanked, in_head, in_tail}
use Rattle.es_steps.specs.Steps.Steps.{goes, stays}
use Rattle.es_steps.specs.Laws.{nothing_beside}
use Rattle.es_steps.proofs.Opened.{finished-opened}
use Rattle.es_steps.proofs.Taken.{whole_in}
use Rattle.es_reached.proofs.FreeTrees.{Free, FreeAll, FreeBy, FreeIn, free, free-body, free-flanks, free-joined, free-whole}
use Rattle.es_reached.specs.NoRests.{is_declared_rest}
use Rattle.es_lowered.specs.Lowered.{LawIdle}
use Rattle.es_rest_rows.specs.RestRows.{PutsName, RestWalkRow}
use Rattle.es_rest_rows.specs.RestRows.PutsName.{for_pattern, with_default}
use Rattle.es_rest_rows.specs.RestRows.RowsWhere.{nested, stores, takes}
use Rattle.es_rest_shapes.specs.RestShapes.{are_plain_members, are_plain_parts, bears_among, bears_first, bears_rest, is_named_rest, is_plain_first, is_plain_key, is_plain_pattern, is_plain_property, is_plain_target, is_plain_value}
use Rattle.es_rest_rows.proofs.PlainPatterns.{plain-bears, rest-bears-none}

-- A PATTERN WITH A REST

or-later : (a b : Bool) → b ≡ true → (a || b) ≡ true
or-later true b e = refl
or-later false b e = e

and-on : (b : Bool) → (b && true) ≡ b
and-on true = refl
and-on false = refl

off-where : (b : Bool) → not b ≡ true → b ≡ false
off-where true h = absurd (true≢false (sym h))
off-where false h = refl

-- the last member is a property or a rest
last-none : (p r b : Bool) → (r ≡ true → b ≡ false) → (p ≡ true → b ≡ false) → (p || r) ≡ true → b ≡ false
last-none true r b f g h = g refl
last-none false r b f g h = f h

-- a plain pattern in which none is declared has none
mutual
  plain-none : (t : Tree) → is_plain_value t ≡ true → Free is_declared_rest t → bears_rest t ≡ false
  plain-none (node ObjectPattern l fs) h f = parts-none l fs h f
  plain-none (node AssignmentPattern l fs) h f = first-none fs h f.1
  plain-none t h f = off-where (bears_rest t) h

  first-none : (fs : Fields) → is_plain_first fs ≡ true → FreeIn is_declared_rest fs → bears_first fs ≡ false
  first-none (one p then one e then done) h f = target-none p h f.0
  first-none _ h f = absurd (true≢false (sym h))

  target-none : (t : Tree) → is_plain_target t ≡ true → Free is_declared_rest t → bears_rest t ≡ false
  target-none (node ObjectPattern l fs) h f = parts-none l fs h f
  target-none t h f = off-where (bears_rest t) h

  parts-none : (l : Label) (fs : Fields) → are_plain_parts fs ≡ true → Free is_declared_rest (node ObjectPattern l fs) → bears_rest (node ObjectPattern l fs) ≡ false
  parts-none l (many ps then done) h f = or_from (is_object_rest ObjectPattern l (many ps then done)) (bears_among ps) (sym (and-on (is_object_rest ObjectPattern l (many ps then done))) ∙ f.0) (members-none ps h f.1.0)
  parts-none l _ h f = absurd (true≢false (sym h))

  members-none : (ts : Trees) → are_plain_members ts ≡ true → FreeAll is_declared_rest ts → bears_among ts ≡ false
  members-none empty h f = refl
  members-none (t before empty) h f = or_from (bears_rest t) false (last-none (is_plain_property t) (is_named_rest t) (bears_rest t) (rest-bears-none t) (λ e. property-none t e f.0) h) refl
  members-none (t before (u before ts)) h f =
      let k = and_parts (is_plain_property t) (are_plain_members (u before ts)) h in
      or_from (bears_rest t) (bears_among (u before ts)) (property-none t k.0 f.0) (members-none (u before ts) k.1 f.1)

  property-none : (t : Tree) → is_plain_property t ≡ true → Free is_declared_rest t → bears_rest t ≡ false
  property-none (node PatternProperty l (one k then one v then done)) h f = plain-none v (and_parts (is_plain_key (has_computed PatternProperty l.flags) k) (is_plain_value v) h).1 f.1.1.0
  property-none _ h f = absurd (true≢false (sym h))

plain-rest : (p : Tree) → is_plain_pattern p ≡ true → Free is_declared_rest p → ⊥
plain-rest (node ObjectPattern l fs) h f = true≢false (sym (plain-bears (node ObjectPattern l fs) h) ∙ parts-none l fs (and_parts (bears_rest (node ObjectPattern l fs)) (are_plain_parts fs) h).1 f)
plain-rest _ h f = true≢false (sym h)

put-free : {x p v u : Tree} → PutsName x p v u → Free is_declared_rest v → Free is_declared_rest p
put-free for_pattern f = f
put-free (with_default l e silent) f = f.1.0

joined-rest : (ps : Trees) (l : Label) (t : Tree) → any_kind is_rest (joined_trees ps (node RestElement l (one t then done) before empty)) ≡ true
joined-rest empty l t = refl
joined-rest (p before ps) l t = or-later (is_rest (kind_of p)) (any_kind is_rest (joined_trees ps (node RestElement l (one t then done) before empty))) (joined-rest ps l t)

-- NO ROW

idle-row : (n : Site) (s s' : Ledger) (t : Tree) (y : Spot) → RestWalkRow n s (at_node t) s' y → Free is_declared_rest t → ⊥
idle-row n s s' t y (stores m l a c p e x exported declares plain all kept silent fresh) f =
    plain-rest p plain (free-joined is_declared_rest a (node _ l (one p then (one e then done)) before c) f.1.0).1.0.1.0
idle-row n s s' t y (takes m l lp lr ls a ps c r xs exported declares plain name all kept names helper used) f =
    absurd (true≢false (sym (joined-rest ps lr r) ∙ sym (and-on (any_kind is_rest (joined_trees ps (node RestElement lr (one r then done) before empty)))) ∙ (free-joined is_declared_rest a (node _ l (one (node ObjectPattern lp (many (joined_trees ps (node RestElement lr (one r then done) before empty)) then done)) then (one (node _ ls done) then done)) before c) f.1.0).1.0.1.0.0))
idle-row n s s' t y (nested m l lp lq ls a ps rs c k p v u x exported declares members bears plain puts all kept fresh) f =
    let property = node PatternProperty lq (one k then (one v then done)) in
    let whole = (free-joined is_declared_rest a (node _ l (one (node ObjectPattern lp (many (joined_trees ps (property before rs)) then done)) then (one (node _ ls done) then done)) before c) f.1.0).1.0.1.0 in
    plain-rest p plain (put-free puts (free-joined is_declared_rest ps (property before rs) whole.1.0).1.0.1.1.0)

not-in-lists : (n : Site) (s s' : Ledger) (p : Pending) (x : Option Bound) (a : Additions) (ts : Trees) (y : Spot) → RestWalkRow n s (at_list p x a ts) s' y → ⊥
not-in-lists n s s' p x a ts y h = elim h [ ]

not-in-bodies : (n : Site) (s s' : Ledger) (p : Pending) (t : Tree) (y : Spot) → RestWalkRow n s (at_body p t) s' y → ⊥
not-in-bodies n s s' p t y h = elim h [ ]

not-beside : (n : Site) (s s' : Ledger) (t u : Tree) (bs cs : List Tree) → RestWalkRow n s (at_node t) s' (at_beside bs u cs) → ⊥
not-beside n s s' t u bs cs h = elim h [ ]

not-flanked : (n : Site) (s s' : Ledger) (bs cs : List Tree) (t : Tree) (y : Spot) → RestWalkRow n s (at_beside bs t cs) s' y → ⊥
not-flanked n s s' bs cs t y h = elim h [ ]

-- NO STEP

mutual
  idle : {n : Site} {s s' : Ledger} {t u : Open} → Step RestWalkRow n s t s' u → Free is_declared_rest (finished t) → ⊥
  idle (acts {n = n} {s = s} {s' = s'} t u h) f = idle-row n s s' t (at_node u) h (subst (λ (x : Tree). Free is_declared_rest x) (finished-opened t) f)
  idle (inside h) f = idle-in h f.1

  idle-in : {c : ℕ → Site} {s s' : Ledger} {fs gs : OpenFields} → FieldsStep RestWalkRow c s fs s' gs → FreeIn is_declared_rest (finished_fields fs) → ⊥
  idle-in (in_first h) f = idle-by h f.0
  idle-in (in_later h) f = idle-in h f.1

  idle-by : {n : Site} {s s' : Ledger} {f g : OpenField} → FieldStep RestWalkRow n s f s' g → FreeBy is_declared_rest (finished_field f) → ⊥
  idle-by (in_child h) f = idle h f
  idle-by (in_children h) f = idle-all h f
  idle-by (in_body {p = p} {t = t} e x y h) f = idle h (free-body is_declared_rest p.vars p.lets (finished t) f).1
  idle-by (in_list {p = p} {y = y} {b = b} {ts = ts} e d h) f = idle-all h (free-whole is_declared_rest p y b (finished_trees ts) f).all
  idle-by (in_target {p = p} {y = y} {b = b} {ts = ts} e h) f = idle-all h (free-whole is_declared_rest p y b (finished_trees ts) f).all
  idle-by (in_program {p = p} {y = y} {b = b} {ts = ts} e h) f = idle-all h (free-whole is_declared_rest p y b (finished_trees ts) f).all
  idle-by (acts_on_list {n = n} {s = s} {s' = s'} {p = p} {x = x} {a = a} ts us h) f = not-in-lists n s s' p x a ts _ h
  idle-by (acts_on_body {n = n} {s = s} {s' = s'} {p = p} t u h) f = not-in-bodies n s s' p t _ h

  idle-all : {n : Site} {s s' : Ledger} {ts us : OpenTrees} → TreesStep RestWalkRow n s ts s' us → FreeAll is_declared_rest (finished_trees ts) → ⊥
  idle-all (in_head h) f = idle h f.0
  idle-all (in_tail h) f = idle-all h f.1
  idle-all (in_flanked {bs = bs} {cs = cs} {t = t} {ts = ts} h) f = idle h (free-flanks is_declared_rest bs cs (finished t) (finished_trees ts) f).1.0
  idle-all (after_flanked {bs = bs} {cs = cs} {t = t} {ts = ts} h) f = idle-all h (free-flanks is_declared_rest bs cs (finished t) (finished_trees ts) f).1.1
  idle-all (flanks {n = n} {s = s} {s' = s'} {bs = bs} {cs = cs} t u h) f = not-beside n s s' t u bs cs h
  idle-all (acts_on_flanked {n = n} {s = s} {s' = s'} {bs = bs} {cs = cs} t us h) f = not-flanked n s s' bs cs t _ h

-- THE LAW

same-whole : (w w' : Whole) → nothing_beside w ≡ nothing_beside w' → w' ≡ w
same-whole w w' e = sym (ap whole_in e)

same-program : (p q : Tree) → opened p ≡ opened q → q ≡ p
same-program p q e = sym (finished-opened q) ∙ (ap finished (sym e) ∙ finished-opened p)

row-idle : (s s' : Ledger) (t u : Open) → Steps (Step RestWalkRow the_program) s t s' u → Free is_declared_rest (finished t) → (s ≡ s') × (t ≡ u)
row-idle s s' t u stays f = (refl, refl)
row-idle s s' t u (goes h rest) f = absurd (idle h f)

pub law_idle_proof : LawIdle
law_idle_proof p q w w' steps none =
    let k = row-idle (nothing_beside w) (nothing_beside w') (opened p) (opened q) steps (subst (λ (x : Tree). Free is_declared_rest x) (sym (finished-opened p)) (free is_declared_rest p none)) in
    (same-program p q k.1, same-whole w w' k.0)
