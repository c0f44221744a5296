-- Steps of a walk that lowers `using` are steps of its rules, from a program that has form, binds no `babelHelpers`, keeps the rules of places and
-- declares no name twice where it may not: after each of them the program is so again, and so is each of its nodes. One at a static block is a step
-- of the class around.
use Rattle.std.proofs.Common.{◌≡◌, ◌∙◌, ℕ, suc, zero, refl, sym, ap, subst, inl, inr, true≢false, []}
use Rattle.std.specs.Prelude.{◌⊎◌, Bool, true, false, Option, None, codes}
use Rattle.es_tree.specs.HasForm.{has_form}
use Rattle.es_tree.specs.StaticRules.{breaks}
use Rattle.es_tree.specs.Tree.{Tree, node, Label, Fields, ◌then◌, Field, many, Trees, kind_of}
use Rattle.es_tree.specs.Walks.{any_node}
use Rattle.es_tree.specs.declared.ast_type.AstType.{AstType}
use Rattle.es_tree.specs.declared.ast_type.AstType.TheVariants.{Program}
use Rattle.es_tree.specs.declared.table.Sort.TheVariants.{Program as s-Program}
use Rattle.es_tree.proofs.NodeForm.{node_form}
use Rattle.es_resolution.specs.Declarations.{Bound}
use Rattle.es_resolution.proofs.AllForms.{All, AllAmong, AllBy, AllIn}
use Rattle.es_steps.specs.AllRules.{UsingRule}
use Rattle.es_steps.specs.Identifiers.{Passes, PassesAll, PassesBy, PassesIn}
use Rattle.es_steps.specs.Laws.{IsWellBound, nothing_beside}
use Rattle.es_steps.specs.Open.{Additions, Open, OpenField, OpenFields, OpenTrees, Pending, after_imports, body_with, children, ends, finished, finished_field, finished_fields, finished_trees, is_body, no_additions, nothing_pending, open_node, opened, pending_statements, whole_list, written_body, ◌and◌, ◌next◌}
use Rattle.es_steps.specs.Steps.{FieldStep, FieldsStep, Ledger, Site, Step, Steps, TreesStep, Whole, site_in, the_program}
use Rattle.es_steps.specs.Steps.FieldStep.{acts_on_body, acts_on_list, in_body, in_child, in_children, in_list, in_program, in_target}
use Rattle.es_steps.specs.Steps.FieldsStep.{in_first, in_later}
use Rattle.es_steps.specs.Steps.Spot.{at_beside, at_body, at_list, at_node}
use Rattle.es_steps.specs.Steps.Step.{acts, inside}
use Rattle.es_steps.specs.Steps.Steps.{goes, stays}
use Rattle.es_steps.specs.Steps.TreesStep.{acts_on_flanked, after_flanked, flanks, in_flanked, in_head, in_tail}
use Rattle.es_steps.specs.UsingBodies.{IsClass}
use Rattle.es_steps.specs.UsingBodies.IsClass.{class_declaration, class_expression}
use Rattle.es_steps.proofs.BodyWraps.{body-lawful}
use Rattle.es_steps.proofs.FormOpen.{opened-proper}
use Rattle.es_steps.proofs.HeadUsings.{head-using-lawful, head-using-writes}
use Rattle.es_steps.proofs.Opened.{finished-opened, written-none}
use Rattle.es_steps.proofs.Passing.{body-passes, whole-passes}
use Rattle.es_steps.proofs.RulesWrite.{block-writes}
use Rattle.es_steps.proofs.StatementWraps.{loop-lawful, switch-lawful}
use Rattle.es_steps.proofs.Taken.{Lawful, Writes, both-lawful, both-write}
use Rattle.es_steps.proofs.UsingWrites.{body-writes, loop-writes, switch-writes}
use Rattle.es_steps.proofs.Wraps.{block-lawful}
use Rattle.es_arrow_steps.proofs.Onward.{onward}
use Rattle.es_arrow_steps.proofs.RuleMoves.{ActsSo}
use Rattle.es_arrow_steps.proofs.RuleMoves.Moves.{context}
use Rattle.es_valid_steps.specs.PlaceRules.{Keeps}
use Rattle.es_valid_steps.proofs.Visits.{law_among_proof, law_places_proof}
use Rattle.es_valid_names.proofs.BareNames.{law_declared_among_proof}
use Rattle.es_valid_names.proofs.Claims.{Clear, elsewhere}
use Rattle.es_valid_names.proofs.ClearRules.{use_in}
use Rattle.es_valid_names.proofs.NameSteps.{Good as GoodNames, around, start-clear}
use Rattle.es_valid_names.proofs.StartUsed.{start-used}
use Rattle.es_valid_using.proofs.UsingMoves.{after-step}
use Rattle.es_valid_using.proofs.UsingNamesRules.{all-moves}
use Rattle.es_valid_using.proofs.UsingNamesSteps.{one-step}
use Rattle.es_valid_using.proofs.UsingPlacesSteps.{using-keeps-form}
use Rattle.es_valid_using.proofs.UsingRules.{all-using}
use Rattle.es_valid_using.proofs.UsingTrees.{TreeAfter, tree-after}
use Rattle.es_rest_rows.specs.Laws.{is_bound_helper}
use Rattle.es_rest_steps.proofs.HelperSites.{body-none}
use Rattle.es_rest_rows.proofs.HelperSteps.{Unbound, first-unbound, still-unbound}
use Rattle.es_rest_rows.proofs.HelperNames.{FindsNone, is_other_name, place-none, unbound-passes}
use Rattle.es_pattern_moves.proofs.MoveWalks.{all-after, all-body}
use Rattle.es_pattern_moves.proofs.Settled.{Sound, all-sound}
use Rattle.es_using_rows.proofs.BodiesApart.{BodyApart, clear-apart}
use Rattle.es_using_rows.proofs.ClosedSteps.{AreClosedFields, AreClosedTrees, IsClosed, IsClosedField, closed-after, closed-opened, opened-again, trees-again}
use Rattle.es_using_rows.specs.UsingRows.{UsingWalkRow}
use Rattle.es_using_rows.specs.UsingRows.UsingWalkRow.{uses as uses_row}
use Rattle.es_using_rows.proofs.UsedRows.{walk-only}
use Rattle.es_using_rows.proofs.UsingKinds.{row-using}
use Rattle.es_using_rows.proofs.UsingMembers.{AmongMembers, AreMembers, HasMembers, Holds, IsMember, IsNone, NoneAmong, NoneBy, NoneIn, class-step, holds, is_static, member-first, member-later}
use Rattle.es_using_rows.proofs.UsingMembers.Holds.{has_members, no_static}

-- WHAT IS KNOWN of a part at its place: each node has form and keeps the rules of places, and a body declares no name by `var` that it declares
-- otherwise

abbrev Known : Tree → Type 0
Known t = Passes is_other_name t × All Sound t × All BodyApart t

abbrev KnownIn : Fields → Type 0
KnownIn fs = PassesIn is_other_name fs × AllIn Sound fs × AllIn BodyApart fs

abbrev KnownBy : Field → Type 0
KnownBy f = PassesBy is_other_name f × AllBy Sound f × AllBy BodyApart f

abbrev KnownAll : Trees → Type 0
KnownAll ts = PassesAll is_other_name ts × AllAmong Sound ts × AllAmong BodyApart ts

known-list : (p : Pending) (x : Option Bound) (a : Additions) (ts : Trees) → KnownAll (after_imports (pending_statements p x a) ts) → KnownAll ts
known-list p x a ts h = ((whole-passes is_other_name p x a ts h.0).1, all-after Sound (pending_statements p x a) ts h.1, all-after BodyApart (pending_statements p x a) ts h.2)

known-body : (p : Pending) (t : Tree) → Known (body_with p.vars p.lets t) → Known t
known-body p t h = ((body-passes is_other_name p.vars p.lets t h.0).1, all-body Sound p.vars p.lets t h.1, all-body BodyApart p.vars p.lets t h.2)

-- ONE STEP

node-using : (n : Site) (s s' : Ledger) (t u : Tree) → FindsNone n.names → Known t → UsingWalkRow n s (at_node t) s' (at_node u) → UsingRule n s (at_node t) s' (at_node u) ⊎ IsMember n s s' (opened t) (opened u)
node-using n s s' (node k l fs) u e h r = row-using n s s' k l fs u h.1.0.sort e h.0 h.1.0.form h.1.1 h.2.0 r

-- a step, or one at a static block
abbrev Found : Site → Ledger → Ledger → Open → Open → Type 0
Found n s s' t u = Step UsingRule n s t s' u ⊎ IsMember n s s' t u

found-at : {n : Site} {s s' : Ledger} (t u : Tree) → UsingRule n s (at_node t) s' (at_node u) ⊎ IsMember n s s' (opened t) (opened u) → Found n s s' (opened t) (opened u)
found-at t u (inl r) = inl (acts t u r)
found-at t u (inr m) = inr m

-- where no static block stands it is a step
sure-step : {n : Site} {s s' : Ledger} {t u : Open} → IsNone (finished t) → Found n s s' t u → Step UsingRule n s t s' u
sure-step none (inl r) = r
sure-step none (inr m) = absurd (true≢false (sym (ap (λ (x : Open). is_static (kind_of (finished x))) m.first) ∙ none))

abbrev FoundAmong : Site → Ledger → Ledger → OpenTrees → OpenTrees → Type 0
FoundAmong n s s' ts us = TreesStep UsingRule n s ts s' us ⊎ AmongMembers n s s' ts us

found-first : {n : Site} {s s' : Ledger} {t u : Open} (ts : OpenTrees) → AreClosedTrees ts → Found n s s' t u → FoundAmong n s s' (t next ts) (u next ts)
found-first ts c (inl r) = inl (in_head r)
found-first {n} {s} {s'} {t} {u} ts c (inr m) = inr (member-first n s s' t u ts (trees-again ts c) m)

found-later : {n : Site} {s s' : Ledger} {ts us : OpenTrees} (t : Open) → IsClosed t → FoundAmong n s s' ts us → FoundAmong n s s' (t next ts) (t next us)
found-later t c (inl r) = inl (in_tail r)
found-later {n} {s} {s'} {ts} {us} t c (inr m) = inr (member-later n s s' (finished t) t ts us (opened-again t c) m)

class-bodies : (k : AstType) → IsClass k → (i : ℕ) → is_body k i ≡ false
class-bodies k class_declaration i = refl
class-bodies k class_expression i = refl

-- in the fields of a class
data FoundIn (bodies : ℕ → Bool) : (ℕ → Site) → Ledger → OpenFields → Ledger → OpenFields → Type 0 where
  step_in : {c : ℕ → Site} {s s' : Ledger} {fs gs : OpenFields} → FieldsStep UsingRule c s fs s' gs → FoundIn bodies c s fs s' gs
  member_in : {c : ℕ → Site} {s s' : Ledger} {f g : OpenField} {ts us : OpenTrees} → IsClosedField (bodies 0) f → IsClosedField (bodies 1) g → AmongMembers (c 2) s s' ts us → FoundIn bodies c s (f and (g and (children ts and ends))) s' (f and (g and (children us and ends)))

found-members : (bodies : ℕ → Bool) {c : ℕ → Site} {s s' : Ledger} (f g : OpenField) {ts us : OpenTrees} → IsClosedField (bodies 0) f → IsClosedField (bodies 1) g → FoundAmong (c 2) s s' ts us → FoundIn bodies c s (f and (g and (children ts and ends))) s' (f and (g and (children us and ends)))
found-members bodies f g x y (inl r) = step_in (in_later (in_later (in_first (in_children r))))
found-members bodies f g x y (inr m) = member_in x y m

found-class : (n : Site) (k : AstType) (l : Label) (s s' : Ledger) (fs gs : OpenFields) → IsClass k → FoundIn (is_body k) (site_in n k l fs) s fs s' gs → Step UsingRule n s (open_node k l fs) s' (open_node k l gs)
found-class n k l s s' fs gs is (step_in r) = inside r
found-class n k l s s' _ _ is (member_in {f = f} {g = g} {ts = ts} {us = us} x y m) = class-step n k l f g ts us s s' is (subst (λ (b : Bool). IsClosedField b f) (class-bodies k is 0) x) (subst (λ (b : Bool). IsClosedField b g) (class-bodies k is 1) y) m

by-members : (k : AstType) (fs : Fields) (A : Type 0) → Holds k fs → (NoneIn fs → A) → (IsClass k → HasMembers fs → A) → A
by-members k fs A (no_static h) f g = f h
by-members k fs A (has_members is h) f g = g is h

no-more-fields : (f g : Field) (fs : Fields) → AreMembers (f then (g then fs)) → ⊥
no-more-fields (many ms) g fs h = h
no-more-fields f g fs h = absurd h

none-listed : (p : Pending) (x : Option Bound) (a : Additions) (ts : Trees) → p ≡ nothing_pending → x ≡ None → a ≡ no_additions → NoneAmong (whole_list p x a ts) → NoneAmong ts
none-listed p x a ts h j k none = subst (λ (us : Trees). NoneAmong us) ((λ i. whole_list (h i) (j i) (k i) ts) ∙ written-none ts) none

none-body : (p : Pending) (t : Tree) → p ≡ nothing_pending → IsNone (written_body p t) → IsNone t
none-body p t h none = subst (λ (q : Pending). IsNone (written_body q t)) h none

mutual
  step-there : {n : Site} {s s' : Ledger} {t u : Open} → Step UsingWalkRow n s t s' u → FindsNone n.names → Known (finished t) → IsClosed t → Found n s s' t u
  step-there (acts {n = n} {s = s} {s' = s'} t u r) e h c = found-at t u (node-using n s s' t u e (subst (λ (z : Tree). Known z) (finished-opened t) h) r)
  step-there (inside {n = n} {s = s} {s' = s'} {k = k} {l = l} {fs = fs} {gs = gs} r) e h c =
      let places = place-none n.names n.role k l (finished_fields fs) h.0 e in
      inl (by-members k (finished_fields fs) (Step UsingRule n s (open_node k l fs) s' (open_node k l gs)) (holds h.1.0.sort k l (finished_fields fs) h.1.0.form) (λ none. inside (step-there-in (is_body k) r places (h.0.1, h.1.1, h.2.1) c none)) (λ is has. found-class n k l s s' fs gs is (class-there (is_body k) r places (h.0.1, h.1.1, h.2.1) c has)))

  class-there : (bodies : ℕ → Bool) {c : ℕ → Site} {s s' : Ledger} {fs gs : OpenFields} → FieldsStep UsingWalkRow c s fs s' gs → ((i : ℕ) → FindsNone (c i).names) → KnownIn (finished_fields fs) → AreClosedFields bodies fs → HasMembers (finished_fields fs) → FoundIn bodies c s fs s' gs
  class-there bodies (in_first r) e h c has = step_in (in_first (step-there-by (bodies 0) r (e 0) (h.0.0, h.1.0, h.2.0) c.0 has.0))
  class-there bodies (in_later (in_first r)) e h c has = step_in (in_later (in_first (step-there-by (bodies 1) r (e 1) (h.0.1.0, h.1.1.0, h.2.1.0) c.1.0 has.1.0)))
  class-there bodies (in_later {f = f} (in_later {f = g} (in_first {fs = ends} (in_children r)))) e h c has = found-members bodies f g c.0 c.1.0 (members-there r (e 2) (h.0.1.1.0, h.1.1.1.0, h.2.1.1.0) c.1.1.0)
  class-there bodies (in_later (in_later (in_first {fs = x and xs} (in_children r)))) e h c has = absurd has.1.1
  class-there bodies (in_later (in_later (in_first r))) e h c has = absurd has.1.1
  class-there bodies (in_later (in_later (in_later {f = f} (in_first {f = x} {fs = xs} r)))) e h c has = absurd (no-more-fields (finished_field f) (finished_field x) (finished_fields xs) has.1.1)
  class-there bodies (in_later (in_later (in_later {f = f} (in_later {f = x} {fs = xs} r)))) e h c has = absurd (no-more-fields (finished_field f) (finished_field x) (finished_fields xs) has.1.1)

  step-there-in : (bodies : ℕ → Bool) {c : ℕ → Site} {s s' : Ledger} {fs gs : OpenFields} → FieldsStep UsingWalkRow c s fs s' gs → ((i : ℕ) → FindsNone (c i).names) → KnownIn (finished_fields fs) → AreClosedFields bodies fs → NoneIn (finished_fields fs) → FieldsStep UsingRule c s fs s' gs
  step-there-in bodies (in_first r) e h c none = in_first (step-there-by (bodies zero) r (e zero) (h.0.0, h.1.0, h.2.0) c.0 none.0)
  step-there-in bodies (in_later r) e h c none = in_later (step-there-in (λ i. bodies (suc i)) r (λ i. e (suc i)) (h.0.1, h.1.1, h.2.1) c.1 none.1)

  step-there-by : (v : Bool) {n : Site} {s s' : Ledger} {f g : OpenField} → FieldStep UsingWalkRow n s f s' g → FindsNone n.names → KnownBy (finished_field f) → IsClosedField v f → NoneBy (finished_field f) → FieldStep UsingRule n s f s' g
  step-there-by v (in_child r) e h c none = in_child (sure-step none (step-there r e h c.1))
  step-there-by v (in_children r) e h c none = in_children (step-there-all r e h c none)
  step-there-by v (in_body {n = n} {p = p} {t = t} x y z r) e h c none = in_body x y z (sure-step (none-body p (finished t) c.1 none) (step-there r (body-none n.names p.vars p.lets (finished t) h.0 e) (known-body p (finished t) h) c.3))
  step-there-by v (in_list {p = p} {y = y} {b = b} {ts = ts} d f r) e h c none = in_list d f (step-there-all r e (known-list p y b (finished_trees ts) h) c.3 (none-listed p y b (finished_trees ts) c.0 c.1 c.2 none))
  step-there-by v (in_target {p = p} {y = y} {b = b} {ts = ts} f r) e h c none = in_target f (step-there-all r e (known-list p y b (finished_trees ts) h) c.3 (none-listed p y b (finished_trees ts) c.0 c.1 c.2 none))
  step-there-by v (in_program {p = p} {y = y} {b = b} {ts = ts} f r) e h c none = in_program f (step-there-all r e (known-list p y b (finished_trees ts) h) c.3 (none-listed p y b (finished_trees ts) c.0 c.1 c.2 none))
  step-there-by v (acts_on_list {n = n} {s = s} {s' = s'} {p = p} {q = q} {x = x} {y = y} {a = a} {b = b} ts us r) e h c none = absurd (walk-only n s s' (at_list p x a ts) (at_list q y b us) r)
  step-there-by v (acts_on_body {n = n} {s = s} {s' = s'} {p = p} t u r) e h c none = absurd (walk-only n s s' (at_body p t) (at_node u) r)

  step-there-all : {n : Site} {s s' : Ledger} {ts us : OpenTrees} → TreesStep UsingWalkRow n s ts s' us → FindsNone n.names → KnownAll (finished_trees ts) → AreClosedTrees ts → NoneAmong (finished_trees ts) → TreesStep UsingRule n s ts s' us
  step-there-all (in_head r) e h c none = in_head (sure-step none.0 (step-there r e (h.0.0, h.1.0, h.2.0) c.0))
  step-there-all (in_tail r) e h c none = in_tail (step-there-all r e (h.0.1, h.1.1, h.2.1) c.1 none.1)
  step-there-all (in_flanked r) e h c none = absurd c
  step-there-all (after_flanked r) e h c none = absurd c
  step-there-all (flanks {n = n} {s = s} {s' = s'} {bs = bs} {cs = cs} t u r) e h c none = absurd (walk-only n s s' (at_node t) (at_beside bs u cs) r)
  step-there-all (acts_on_flanked t us r) e h c none = absurd c

  members-there : {n : Site} {s s' : Ledger} {ts us : OpenTrees} → TreesStep UsingWalkRow n s ts s' us → FindsNone n.names → KnownAll (finished_trees ts) → AreClosedTrees ts → FoundAmong n s s' ts us
  members-there (in_head {ts = ts} r) e h c = found-first ts c.1 (step-there r e (h.0.0, h.1.0, h.2.0) c.0)
  members-there (in_tail {t = t} r) e h c = found-later t c.0 (members-there r e (h.0.1, h.1.1, h.2.1) c.1)
  members-there (in_flanked r) e h c = absurd c
  members-there (after_flanked r) e h c = absurd c
  members-there (flanks {n = n} {s = s} {s' = s'} {bs = bs} {cs = cs} t u r) e h c = absurd (walk-only n s s' (at_node t) (at_beside bs u cs) r)
  members-there (acts_on_flanked t us r) e h c = absurd c

-- STEPS

using-lawful : Lawful UsingRule
using-lawful = both-lawful block-lawful (both-lawful body-lawful (both-lawful loop-lawful (both-lawful switch-lawful head-using-lawful)))

using-writes : Writes UsingRule
using-writes = both-write block-writes (both-write body-writes (both-write loop-writes (both-write switch-writes head-using-writes)))

row-acts : ActsSo UsingWalkRow
row-acts n s s' x y (uses_row z i k l fs c stands here fresh used) = record { moves = context c fresh.free; list = tt }

-- a program is no static block
program-none : (t : Tree) → has_form s-Program t ≡ true → IsNone t
program-none (node Program l fs) h = refl
program-none (node k l fs) h = absurd (let no : false ≡ true = (node_form s-Program k l fs h).sort in cc no)

-- what is known of a program that steps led to
record Good (s : Ledger) (x : Open) : Type 0 where
  names : GoodNames s x
  unbound : Unbound s x
  keeps : Keeps [] (finished x)
  closed : IsClosed x

walked : {s s' : Ledger} {x y : Open} → Good s x → Steps (Step UsingWalkRow the_program) s x s' y → Steps (Step UsingRule the_program) s x s' y
walked good stays = stays
walked {s = s} {x = x} good (goes first rest) =
    let program = finished x in
    let sound = all-sound s-Program program good.names.formed good.keeps in
    let apart = clear-apart (use_in s) program good.names.formed good.names.clear in
    let rule = sure-step (program-none program good.names.formed) (step-there first refl (good.unbound.names, sound, apart) good.closed) in
    let unbound = still-unbound UsingRule using-lawful using-writes (onward UsingWalkRow row-acts first).numbers rule good.unbound in
    let left : TreeAfter s-Program _ _ = tree-after UsingRule all-using (after-step UsingRule all-using.alone rule good.names.proper).becomes s-Program (λ e. refl) good.names.formed in
    goes rule (walked (record { names = one-step UsingRule (using-keeps-form UsingRule all-using) all-moves rule good.names; unbound = unbound; keeps = left.keeps [] good.keeps; closed = closed-after first good.closed }) rest)

pub walks : (t : Tree) (w w' : Whole) (x : Open) → has_form s-Program t ≡ true → breaks t ≡ [] → IsWellBound w t → any_node is_bound_helper t ≡ false → w.in_use (codes "babelHelpers") ≡ true → Steps (Step UsingWalkRow the_program) (nothing_beside w) (opened t) (nothing_beside w') x → Steps (Step UsingRule the_program) (nothing_beside w) (opened t) (nothing_beside w') x
walks t w w' x form right bound none used steps =
    let names : GoodNames (nothing_beside w) (opened t) = record {
      proper = opened-proper t;
      formed = subst (λ (a : Tree). has_form s-Program a ≡ true) (sym (finished-opened t)) form;
      clear = subst (λ (a : Tree). Clear (around w.in_use a) elsewhere a) (sym (finished-opened t)) (start-clear w.in_use t form (law_declared_among_proof t right) (start-used w.in_use w.free_symbol t form bound.named));
    } in
    walked (record { names = names; unbound = first-unbound w t used (unbound-passes t bound.class_names none); keeps = subst (λ (a : Tree). Keeps [] a) (sym (finished-opened t)) ((law_places_proof t).to_places (law_among_proof t right)); closed = closed-opened t }) steps
