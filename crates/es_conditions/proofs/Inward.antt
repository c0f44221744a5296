-- The conditions of a visit by the core lowerings go inward.
use Rattle.std.proofs.Common.{◌≡◌, ◌&&◌, ◌||◌, ◌==◌, ℕ, zero, suc, Bool, true, false, refl, sym, subst, ◌∙◌, true≢false, arith}
use Rattle.std.specs.Prelude.{not}
use Rattle.std.proofs.lemmas.Bool.{and_parts, and_from, and_right, ne_eqb, or_from}
use Rattle.es_tree.specs.Ancestors.{ancestor, leads_by}
use Rattle.es_tree.specs.HasForm.{has_form, same_type}
use Rattle.es_tree.specs.Tree.{Tree, node, Label, Fields, done, ◌then◌, Field, missing, one, many, statements, Trees, empty, ◌before◌}
use Rattle.es_tree.specs.Walks.{any_in_field, any_in_fields, any_in_trees, any_node}
use Rattle.es_tree.specs.declared.ast_type.AstType.{AstType}
use Rattle.es_tree.specs.declared.ast_type.AstType.TheVariants.{CallExpression, ChainExpression, MemberExpression, ParenthesizedExpression, UnaryExpression}
use Rattle.es_tree.specs.declared.options.EnvOptions.{EnvOptions}
use Rattle.es_tree.specs.declared.table.Sort.{Sort}
use Rattle.es_tree.proofs.NodeForm.{node_form}
use Rattle.es_runs.specs.Core.{flag, flag_after}
use Rattle.es_runs.specs.OptionalChaining.{is_chain_kind, takes_value}
use Rattle.es_runs.specs.Rules.{on_spine, strays, strays_field, strays_fields, strays_nodes}
use Rattle.es_steps.specs.Open.{OpenFields, is_body, is_statement_body, nothing_pending, opened_fields}
use Rattle.es_steps.specs.Slots.{closes, holds, holds_field, holds_fields, holds_trees, in_open_slot, is_slot}
use Rattle.es_steps.specs.Steps.{Site, outline, site_in, site_in_body}
use Rattle.es_steps.specs.WrapRule.{is_wrapped_for}
use Rattle.es_changes.specs.Changes.{AsBody, Each, EachBy, EachIn}
use Rattle.es_changes.specs.Conditions.{holds_before, may_bring}
use Rattle.es_conditions.specs.CoreConditions.{accepts_chain, are_marked, body_site, core_conditions, each_passes, each_passes_among, each_passes_by, each_passes_in, holds_none_where, is_chain_inside, is_copy_free, is_delete, is_in_chain, is_known, is_no_stray, is_past_chains, is_placed, is_power_free, is_settled, is_taken_over, is_unmarked_chain, is_within_slot, is_wrapped}
use Rattle.es_conditions.specs.Laws.{LawConditions}
use Rattle.es_conditions.proofs.Marks.{Marked, first-flag, first-of, marked-of, marks-of, no-stray-of, none-where, of-no-stray, or-second, second-flag, second-of, where-asked, where-none}

-- SLOTS

-- within a slot and no slot: the parent doesn't close it, and is in an open slot
inner : (slot closed around : Bool) → ((slot || (not closed && around)) && not slot) ≡ true → (closed ≡ false) × (around ≡ true)
inner true closed around e = absurd (true≢false (sym e))
inner false true around e = absurd (true≢false (sym e))
inner false false true e = (refl, refl)
inner false false false e = absurd (true≢false (sym e))

open-field : (closed h : Bool) → closed ≡ false → (not closed && h) ≡ false → h ≡ false
open-field true h e d = absurd (true≢false e)
open-field false h e d = d

-- CHAINS

-- no chain in another field than the first is lowered with what stands around it
leads-later : (j k : AstType) (l : Label) (fs : Fields) (i : ℕ) → leads_by j 0 (ancestor k l fs (suc i) 0) ≡ false
leads-later j k l fs i = and_right (same_type k j) (suc i == 0) (ne_eqb (suc i) 0 (λ d. omega arith))

taken-later : (n : Site) (k : AstType) (l : Label) (fs : OpenFields) (i : ℕ) → is_taken_over (site_in n k l fs (suc i)).above ≡ false
taken-later n k l fs i = rw (leads-later CallExpression k l (outline fs) i, leads-later MemberExpression k l (outline fs) i, leads-later UnaryExpression k l (outline fs) i, leads-later ParenthesizedExpression k l (outline fs) i) refl

module _ (o : EnvOptions) where
  abbrev Lowers : Type 0
  Lowers = o.es2020.optional_chaining ≡ true

  -- a chain, maybe in parentheses, stands where it can be lowered
  pub inside-accepted : (n : Site) (t : Tree) → Lowers → each_passes (is_placed o) n t ≡ true → is_chain_inside t ≡ true → accepts_chain n ≡ true
  inside-accepted n (node ChainExpression l fs) on e c =
      let placed = (and_parts (is_placed o n ChainExpression l fs) (each_passes_in (is_placed o) (site_in n ChainExpression l (opened_fields (is_body ChainExpression) fs)) (is_body ChainExpression) fs) e).0 in
      where-asked o.es2020.optional_chaining true (accepts_chain n) (and_parts (is_power_free o n ChainExpression l fs && is_copy_free o n ChainExpression l fs) (not (o.es2020.optional_chaining && true) || accepts_chain n) placed).1 on refl
  inside-accepted n (node ParenthesizedExpression l (one t then fs)) on e c =
      let inside = (and_parts (is_placed o n ParenthesizedExpression l (one t then fs)) (each_passes_in (is_placed o) (site_in n ParenthesizedExpression l (opened_fields (is_body ParenthesizedExpression) (one t then fs))) (is_body ParenthesizedExpression) (one t then fs)) e).1 in
      inside-accepted (site_in n ParenthesizedExpression l (opened_fields (is_body ParenthesizedExpression) (one t then fs)) 0) t on (and_parts _ _ inside).0 c
  inside-accepted n t on e c = absurd (true≢false (sym c))

  -- the value of each chain in these is taken
  abbrev ValueOf : Site → Tree → Type 0
  ValueOf n t = Lowers → is_chain_inside t ≡ true → takes_value n.need.level ≡ true

  abbrev ValueAmong : Site → Trees → Type 0
  ValueAmong n empty = Unit {0}
  ValueAmong n (t before ts) = ValueOf n t × ValueAmong n ts

  abbrev ValueBy : Site → Field → Type 0
  ValueBy n missing = Unit {0}
  ValueBy n (one t) = ValueOf n t
  ValueBy n (many ts) = ValueAmong n ts
  ValueBy n (statements ts) = ValueAmong n ts

  abbrev ValueIn : (ℕ → Site) → Fields → Type 0
  ValueIn sites done = Unit {0}
  ValueIn sites (f then fs) = ValueBy (sites zero) f × ValueIn (λ i. sites (suc i)) fs

  -- where none is lowered with what stands around it
  abbrev IsLoose : Site → Type 0
  IsLoose n = Lowers → is_taken_over n.above ≡ false

  loose-one : (n : Site) (t : Tree) → IsLoose n → each_passes (is_placed o) n t ≡ true → ValueOf n t
  loose-one n t loose e on c = or-second (takes_value n.need.level) (is_taken_over n.above) (inside-accepted n t on e c) (loose on)

  loose-among : (n : Site) (ts : Trees) → IsLoose n → each_passes_among (is_placed o) n ts ≡ true → ValueAmong n ts
  loose-among n empty loose e = tt
  loose-among n (t before ts) loose e = let parts = and_parts (each_passes (is_placed o) n t) (each_passes_among (is_placed o) n ts) e in (loose-one n t loose parts.0, loose-among n ts loose parts.1)

  loose-body : (n : Site) (b : Bool) (t : Tree) → IsLoose n → each_passes (is_placed o) (body_site n b t) t ≡ true → ValueOf n t
  loose-body n true t loose e = loose-one n t loose e
  loose-body n false t loose e = loose-one (site_in_body n nothing_pending t) t loose e

  loose-by : (n : Site) (b : Bool) (f : Field) → IsLoose n → each_passes_by (is_placed o) n b f ≡ true → ValueBy n f
  loose-by n true missing loose e = tt
  loose-by n false missing loose e = tt
  loose-by n true (one t) loose e = loose-body n (is_statement_body t) t loose e
  loose-by n false (one t) loose e = loose-one n t loose e
  loose-by n true (many ts) loose e = loose-among n ts loose e
  loose-by n false (many ts) loose e = loose-among n ts loose e
  loose-by n true (statements ts) loose e = loose-among n ts loose e
  loose-by n false (statements ts) loose e = loose-among n ts loose e

  loose-in : (sites : ℕ → Site) (bodies : ℕ → Bool) (fs : Fields) → ((i : ℕ) → IsLoose (sites i)) → each_passes_in (is_placed o) sites bodies fs ≡ true → ValueIn sites fs
  loose-in sites bodies done loose e = tt
  loose-in sites bodies (f then fs) loose e =
      let parts = and_parts (each_passes_by (is_placed o) (sites zero) (bodies zero) f) (each_passes_in (is_placed o) (λ i. sites (suc i)) (λ i. bodies (suc i)) fs) e in
      (loose-by (sites zero) (bodies zero) f (loose zero) parts.0, loose-in (λ i. sites (suc i)) (λ i. bodies (suc i)) fs (λ i. loose (suc i)) parts.1)

  -- THE FIRST FIELD of a node after whose hooks no chain is lowered with it
  pub record NodeKnown (n : Site) (s : Sort) (k : AstType) (l : Label) (fs : Fields) : Type 0 where
    pub formed : has_form s (node k l fs) ≡ true
    pub tidy : Lowers → strays false (node k l fs) ≡ false
    pub stray : ValueOf n (node k l fs)
    pub settled : is_settled o (node k l fs) ≡ true

  pub unmarked : (marked around : Bool) → ((marked && not false) || around) ≡ false → marked ≡ false
  unmarked true around e = absurd (true≢false e)
  unmarked false around e = refl

  plain-call : (optional inside : Bool) → optional ≡ false → (not optional && inside) ≡ false → inside ≡ false
  plain-call true inside e d = absurd (true≢false e)
  plain-call false inside e d = d

  second-false : (a b : Bool) → (a && b) ≡ false → b ≡ true → a ≡ false
  second-false true b e d = absurd (true≢false (sym d ∙ e))
  second-false false b e d = refl

  first-by : (n : Site) (s : Sort) (k : AstType) (l : Label) (f : Field) (fs : Fields) → NodeKnown n s k l (f then fs) → each_passes_by (is_placed o) (site_in n k l (opened_fields (is_body k) (f then fs)) 0) (is_body k 0) f ≡ true → ValueBy (site_in n k l (opened_fields (is_body k) (f then fs)) 0) f
  first-by n s CallExpression l missing fs h e = tt
  first-by n s CallExpression l (one t) fs h e = λ on c. absurd (true≢false (sym c ∙ plain-call (Rattle.es_tree.specs.Names.flag_at 0 l.flags) (is_chain_inside t) (first-flag l.flags ∙ unmarked (flag l.flags) (strays_fields false (one t then fs)) (h.tidy on)) (where-none o.es2020.optional_chaining _ h.settled on)))
  first-by n s CallExpression l (many ts) fs h e = absurd (true≢false (sym (node_form s CallExpression l (many ts then fs) h.formed).children))
  first-by n s CallExpression l (statements ts) fs h e = absurd (true≢false (sym (node_form s CallExpression l (statements ts then fs) h.formed).children))
  first-by n s MemberExpression l f fs h e = loose-by (site_in n MemberExpression l (opened_fields (is_body MemberExpression) (f then fs)) 0) false f (λ on. rw (second-flag l.flags ∙ unmarked (flag_after l.flags) (strays_fields false (f then fs)) (h.tidy on)) refl) e
  first-by n s UnaryExpression l missing fs h e = tt
  first-by n s UnaryExpression l (one t) fs h e = λ on c. loose-one (site_in n UnaryExpression l (opened_fields (is_body UnaryExpression) (one t then fs)) 0) t (λ d. rw (second-false (is_delete UnaryExpression l) (is_chain_inside t) (where-none o.es2020.optional_chaining _ h.settled on) c) refl) e on c
  first-by n s UnaryExpression l (many ts) fs h e = absurd (true≢false (sym (node_form s UnaryExpression l (many ts then fs) h.formed).children))
  first-by n s UnaryExpression l (statements ts) fs h e = absurd (true≢false (sym (node_form s UnaryExpression l (statements ts then fs) h.formed).children))
  first-by n s ParenthesizedExpression l missing fs h e = tt
  first-by n s ParenthesizedExpression l (one t) fs h e = h.stray
  first-by n s ParenthesizedExpression l (many ts) fs h e = absurd (true≢false (sym (node_form s ParenthesizedExpression l (many ts then fs) h.formed).children))
  first-by n s ParenthesizedExpression l (statements ts) fs h e = absurd (true≢false (sym (node_form s ParenthesizedExpression l (statements ts then fs) h.formed).children))
  first-by n s k l f fs h e = loose-by (site_in n k l (opened_fields (is_body k) (f then fs)) 0) (is_body k 0) f (λ on. refl) e

  value-in : (n : Site) (s : Sort) (k : AstType) (l : Label) (fs : Fields) → NodeKnown n s k l fs → each_passes_in (is_placed o) (site_in n k l (opened_fields (is_body k) fs)) (is_body k) fs ≡ true → ValueIn (site_in n k l (opened_fields (is_body k) fs)) fs
  value-in n s k l done h e = tt
  value-in n s k l (f then fs) h e =
      let sites = site_in n k l (opened_fields (is_body k) (f then fs)) in
      let parts = and_parts (each_passes_by (is_placed o) (sites zero) (is_body k zero) f) (each_passes_in (is_placed o) (λ i. sites (suc i)) (λ i. is_body k (suc i)) fs) e in
      (first-by n s k l f fs h parts.0, loose-in (λ i. sites (suc i)) (λ i. is_body k (suc i)) fs (λ i on. taken-later n k l (opened_fields (is_body k) (f then fs)) i) parts.1)

  -- NO CHAIN STANDS AROUND

  abbrev Past : Site → Type 0
  Past n = is_past_chains o n ≡ true

  settled-kind : (k : AstType) (l : Label) (fs : Fields) → Lowers → is_settled o (node k l fs) ≡ true → is_chain_kind k ≡ false
  settled-kind ChainExpression l fs on e = absurd (true≢false (where-none o.es2020.optional_chaining true e on))
  settled-kind k l fs on e = refl

  -- nor does one in a node after whose hooks no chain is left there
  past-inside : (n : Site) (k : AstType) (l : Label) (fs : Fields) → is_settled o (node k l fs) ≡ true → Past n → (i : ℕ) → Past (site_in n k l (opened_fields (is_body k) fs) i)
  past-inside n k l fs e q i =
      none-where o.es2020.optional_chaining (is_chain_kind k || is_in_chain n.above) (λ on. or_from (is_chain_kind k) (is_in_chain n.above) (settled-kind k l fs on e) (where-none o.es2020.optional_chaining (is_in_chain n.above) q on))

  -- EACH NODE INSIDE

  before-of : (n : Site) (t : Tree) → (is_within_slot n ≡ true → holds (is_wrapped_for o) t ≡ false) → each_passes (is_placed o) n t ≡ true → Marked o t → ValueOf n t → Past n → holds_before (core_conditions o) n t
  before-of n t f p m v q =
      and_from (holds_none_where (is_within_slot n) o t) (is_known o n t) (none-where (is_within_slot n) (holds (is_wrapped_for o) t) f)
      (and_from (each_passes (is_placed o) n t && are_marked o t && is_no_stray o n t) (is_past_chains o n)
      (and_from (each_passes (is_placed o) n t && are_marked o t) (is_no_stray o n t) (and_from (each_passes (is_placed o) n t) (are_marked o t) p (marks-of o t m)) (no-stray-of o n t v)) q)

  abbrev None : Bool → Type 0
  None b = Lowers → b ≡ false

  each-of : (n : Site) (ts : Trees) → (is_within_slot n ≡ true → holds_trees (is_wrapped_for o) ts ≡ false) → each_passes_among (is_placed o) n ts ≡ true → None (strays_nodes false ts) → None (any_in_trees is_unmarked_chain ts) → ValueAmong n ts → Past n → Each (holds_before (core_conditions o)) n ts
  each-of n empty f p tidy full v q = tt
  each-of n (t before ts) f p tidy full v q =
      let parts = and_parts (each_passes (is_placed o) n t) (each_passes_among (is_placed o) n ts) p in (
        before-of n t (λ e. first-of (holds (is_wrapped_for o) t) (holds_trees (is_wrapped_for o) ts) (f e)) parts.0 (record { tidy = λ on. first-of (strays false t) (strays_nodes false ts) (tidy on); full = λ on. first-of (any_node is_unmarked_chain t) (any_in_trees is_unmarked_chain ts) (full on) }) v.0 q,
        each-of n ts (λ e. second-of (holds (is_wrapped_for o) t) (holds_trees (is_wrapped_for o) ts) (f e)) parts.1 (λ on. second-of (strays false t) (strays_nodes false ts) (tidy on)) (λ on. second-of (any_node is_unmarked_chain t) (any_in_trees is_unmarked_chain ts) (full on)) v.1 q,
      )

  as-body : (n : Site) (b : Bool) (t : Tree) → (is_within_slot n ≡ true → holds (is_wrapped_for o) t ≡ false) → each_passes (is_placed o) (body_site n b t) t ≡ true → Marked o t → ValueOf n t → Past n → AsBody (holds_before (core_conditions o)) n b t
  as-body n true t f p m v q = before-of n t f p m v q
  as-body n false t f p m v q = before-of (site_in_body n nothing_pending t) t f p m v q

  each-by : (n : Site) (b : Bool) (x : Field) → (is_within_slot n ≡ true → holds_field (is_wrapped_for o) x ≡ false) → each_passes_by (is_placed o) n b x ≡ true → None (strays_field false x) → None (any_in_field is_unmarked_chain x) → ValueBy n x → Past n → EachBy (holds_before (core_conditions o)) n b x
  each-by n true missing f p tidy full v q = tt
  each-by n false missing f p tidy full v q = tt
  each-by n true (one t) f p tidy full v q = as-body n (is_statement_body t) t f p (record { tidy = tidy; full = full }) v q
  each-by n false (one t) f p tidy full v q = before-of n t f p (record { tidy = tidy; full = full }) v q
  each-by n true (many ts) f p tidy full v q = each-of n ts f p tidy full v q
  each-by n false (many ts) f p tidy full v q = each-of n ts f p tidy full v q
  each-by n true (statements ts) f p tidy full v q = each-of n ts f p tidy full v q
  each-by n false (statements ts) f p tidy full v q = each-of n ts f p tidy full v q

  each-in : (around : Bool) (sites : ℕ → Site) (c bodies : ℕ → Bool) (fs : Fields) → ((i : ℕ) → is_within_slot (sites i) ≡ true → (c i ≡ false) × (around ≡ true)) → (around ≡ true → holds_fields (is_wrapped_for o) c fs ≡ false) → each_passes_in (is_placed o) sites bodies fs ≡ true →
      None (strays_fields false fs) → None (any_in_fields is_unmarked_chain fs) → ValueIn sites fs → ((i : ℕ) → Past (sites i)) → EachIn (holds_before (core_conditions o)) sites bodies fs
  each-in around sites c bodies done inside f p tidy full v q = tt
  each-in around sites c bodies (x then fs) inside f p tidy full v q =
      let parts = and_parts (each_passes_by (is_placed o) (sites zero) (bodies zero) x) (each_passes_in (is_placed o) (λ i. sites (suc i)) (λ i. bodies (suc i)) fs) p in (
        each-by (sites zero) (bodies zero) x (λ e. let k = inside zero e in open-field (c zero) (holds_field (is_wrapped_for o) x) k.0 (first-of (not (c zero) && holds_field (is_wrapped_for o) x) (holds_fields (is_wrapped_for o) (λ i. c (suc i)) fs) (f k.1))) parts.0
            (λ on. first-of (strays_field false x) (strays_fields false fs) (tidy on)) (λ on. first-of (any_in_field is_unmarked_chain x) (any_in_fields is_unmarked_chain fs) (full on)) v.0 (q zero),
        each-in around (λ i. sites (suc i)) (λ i. c (suc i)) (λ i. bodies (suc i)) fs (λ i. inside (suc i)) (λ e. second-of (not (c zero) && holds_field (is_wrapped_for o) x) (holds_fields (is_wrapped_for o) (λ i. c (suc i)) fs) (f e)) parts.1
            (λ on. second-of (strays_field false x) (strays_fields false fs) (tidy on)) (λ on. second-of (any_in_field is_unmarked_chain x) (any_in_fields is_unmarked_chain fs) (full on)) v.1 (λ i. q (suc i)),
      )

  -- no chain is left, so that no spine goes on from the node
  no-spine : (k : AstType) (l : Label) (fs : Fields) → Lowers → is_settled o (node k l fs) ≡ true → on_spine k false ≡ false
  no-spine ChainExpression l fs on e = absurd (true≢false (where-none o.es2020.optional_chaining true e on))
  no-spine k l fs on e = refl

-- THE LAW

weaker : (a s h : Bool) → not (a && h) ≡ true → not ((a && not s) && h) ≡ true
weaker true true h e = refl
weaker true false h e = e
weaker false s h e = refl

pub same-there : (a s h : Bool) → s ≡ false → not ((a && not s) && h) ≡ true → not (a && h) ≡ true
same-there true true h d e = absurd (true≢false d)
same-there true false h d e = e
same-there false s h d e = refl

-- what brings nothing about is settled
settled-alike : (o : EnvOptions) (k : AstType) (l : Label) (fs : Fields) → may_bring k ≡ false → is_settled o (node k l fs) ≡ true
settled-alike o CallExpression l fs e = absurd (true≢false e)
settled-alike o ChainExpression l fs e = absurd (true≢false e)
settled-alike o UnaryExpression l fs e = absurd (true≢false e)
settled-alike o k l fs e = none-where o.es2020.optional_chaining false (λ d. refl)

-- the parts of what is known
pub record Known (o : EnvOptions) (n : Site) (t : Tree) : Type 0 where
  pub placed : each_passes (is_placed o) n t ≡ true
  pub marked : Marked o t
  pub value : o.es2020.optional_chaining ≡ true → is_chain_inside t ≡ true → takes_value n.need.level ≡ true
  pub past : is_past_chains o n ≡ true

pub known-of : (o : EnvOptions) (n : Site) (t : Tree) → is_known o n t ≡ true → Known o n t
known-of o n t e =
    let last = and_parts (each_passes (is_placed o) n t && are_marked o t && is_no_stray o n t) (is_past_chains o n) e in
    let all = and_parts (each_passes (is_placed o) n t && are_marked o t) (is_no_stray o n t) last.0 in
    let parts = and_parts (each_passes (is_placed o) n t) (are_marked o t) all.0 in
    record { placed = parts.0; marked = marked-of o t parts.1; value = of-no-stray o n t all.1; past = last.1 }

pub is-known : (o : EnvOptions) (n : Site) (t : Tree) → Known o n t → is_known o n t ≡ true
is-known o n t h =
    and_from (each_passes (is_placed o) n t && are_marked o t && is_no_stray o n t) (is_past_chains o n)
    (and_from (each_passes (is_placed o) n t && are_marked o t) (is_no_stray o n t) (and_from (each_passes (is_placed o) n t) (are_marked o t) h.placed (marks-of o t h.marked)) (no-stray-of o n t h.value)) h.past

pub law_conditions_proof : LawConditions
law_conditions_proof o = record {
  stronger = λ n t e.
      let parts = and_parts (holds_none_where (in_open_slot n.above) o t) (is_known o n t) (and_parts (is_wrapped o n t) (is_settled o t) e).0 in
      and_from (holds_none_where (is_within_slot n) o t) (is_known o n t) (weaker (in_open_slot n.above) (is_slot n.above) (holds (is_wrapped_for o) t) parts.0) parts.1;
  alike = λ n s k l fs form brings slot e.
      let parts = and_parts (holds_none_where (is_within_slot n) o (node k l fs)) (is_known o n (node k l fs)) e in
      and_from (is_wrapped o n (node k l fs)) (is_settled o (node k l fs)) (and_from (holds_none_where (in_open_slot n.above) o (node k l fs)) (is_known o n (node k l fs)) (same-there (in_open_slot n.above) (is_slot n.above) (holds (is_wrapped_for o) (node k l fs)) slot parts.0) parts.1) (settled-alike o k l fs brings);
  inward = λ n s k l fs form e.
      let free = and_parts (is_wrapped o n (node k l fs)) (is_settled o (node k l fs)) e in
      let parts = and_parts (holds_none_where (in_open_slot n.above) o (node k l fs)) (is_known o n (node k l fs)) free.0 in
      let known = known-of o n (node k l fs) parts.1 in
      let inside = (and_parts (is_placed o n k l fs) (each_passes_in (is_placed o) (site_in n k l (opened_fields (is_body k) fs)) (is_body k) fs) known.placed).1 in
      each-in o (in_open_slot n.above) (site_in n k l (opened_fields (is_body k) fs)) (closes k) (is_body k) fs
      (λ i. inner (is_slot (site_in n k l (opened_fields (is_body k) fs) i).above) (closes k i) (in_open_slot n.above))
      (λ d. second-of (is_wrapped_for o k l fs) (holds_fields (is_wrapped_for o) (closes k) fs) (where-none (in_open_slot n.above) (holds (is_wrapped_for o) (node k l fs)) parts.0 d))
      inside
      (λ on. subst (λ (b : Bool). strays_fields b fs ≡ false) (no-spine o k l fs on free.1) (second-of _ (strays_fields (on_spine k false) fs) (known.marked.tidy on)))
      (λ on. second-of (is_unmarked_chain k l fs) (any_in_fields is_unmarked_chain fs) (known.marked.full on))
      (value-in o n s k l fs (record { formed = form; tidy = known.marked.tidy; stray = known.value; settled = free.1 }) inside) (past-inside o n k l fs free.1 known.past);
}
