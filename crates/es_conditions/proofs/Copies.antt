-- The row of object spread keeps the conditions: properties and operands move into calls of a helper (ECMA-262, 13.2.5).
use Rattle.std.proofs.Common.{◌≡◌, ◌&&◌, ◌||◌, ℕ, Bool, true, false, List, [], ◌∷◌, ◌++◌, refl, true≢false}
use Rattle.std.specs.Prelude.{Option, Some, None, codes, is_some}
use Rattle.std.proofs.lemmas.Bool.{and_parts, or_from}
use Rattle.es_tree.specs.Constructs.{any_kind, is_spread}
use Rattle.es_tree.specs.Tree.{Tree, node, Label, done, ◌then◌, one, many, Trees, ◌before◌, kind_of, trees}
use Rattle.es_tree.specs.Walks.{any_in_trees, any_node}
use Rattle.es_tree.specs.Words.{Text}
use Rattle.es_tree.specs.declared.ast_type.AstType.TheVariants.{CallExpression, ObjectExpression, SpreadElement}
use Rattle.es_tree.specs.declared.options.EnvOptions.{EnvOptions}
use Rattle.es_runs.specs.Core.{flag}
use Rattle.es_runs.specs.Rules.{strays, strays_nodes}
use Rattle.es_resolution.specs.Declarations.{Bound}
use Rattle.es_steps.specs.Nodes.{call_node, made, object_node, placed}
use Rattle.es_steps.specs.ObjectRest.{helper_node}
use Rattle.es_steps.specs.ObjectSpread.{Copies, SpreadRule, copied, last_copied}
use Rattle.es_steps.specs.ObjectSpread.Copies.{no_more, copies, keeps}
use Rattle.es_steps.specs.ObjectSpread.SpreadRule.{spreads}
use Rattle.es_steps.specs.Open.{is_body, opened_fields}
use Rattle.es_steps.specs.Slots.{holds, holds_trees, in_open_slot}
use Rattle.es_steps.specs.Steps.{Site, Whole, site_in}
use Rattle.es_steps.specs.WrapRule.{is_wrapped_for, takes_one}
use Rattle.es_conditions.specs.CoreConditions.{each_passes, each_passes_among, is_free, is_past_chains, is_placed, is_unmarked_chain}
use Rattle.es_conditions.specs.Laws.{Keeps}
use Rattle.es_conditions.proofs.Marks.{first-of, none-where, second-of}
use Rattle.es_conditions.proofs.Parts.{Made, Part, PartsAmong, among-at, among-first, among-none, among-parts, made-called, made-object, made-static, part-at, part-of, some_site}
use Rattle.es_conditions.proofs.Rows.{Wrapped, free-of, is-wrapped, known-made, scope_at, wrapped-free, wrapped-of}
use Rattle.es_conditions.proofs.Unwrapped.{no-nullish, static-holds, two-hold-none, unwrapped}

abbrev the_helper : Tree
the_helper = helper_node (codes "objectSpread2")

more-spreads : (ps : List Tree) (t : Tree) → any_kind is_spread (trees ps) ≡ false → is_spread (kind_of t) ≡ false → any_kind is_spread (trees (ps ++ t ∷ [])) ≡ false
more-spreads [] t h k = or_from (is_spread (kind_of t)) false k refl
more-spreads (p ∷ ps) t h k =
    let rest = more-spreads ps t (second-of (is_spread (kind_of p)) (any_kind is_spread (trees ps)) h) k in
    or_from (is_spread (kind_of p)) (any_kind is_spread (trees (ps ++ t ∷ []))) (first-of (is_spread (kind_of p)) (any_kind is_spread (trees ps)) h) rest

module _ (o : EnvOptions) (s : Text → Option ℕ) (within : Bool) where
  -- PIECES: parts that hold nothing that slots are wrapped for, if they are within one

  record Piece (t : Tree) : Type 0 where
    part : Part o s t
    none : within ≡ true → holds (is_wrapped_for o) t ≡ false

  record Pieces (ts : Trees) : Type 0 where
    among : PartsAmong o s ts
    none : within ≡ true → holds_trees (is_wrapped_for o) ts ≡ false

  more-pieces : (t : Tree) (ts : Trees) → Piece t → Pieces ts → Pieces (t before ts)
  more-pieces t ts h k = record { among = among-first o s t ts h.part k.among; none = λ d. or_from (holds (is_wrapped_for o) t) (holds_trees (is_wrapped_for o) ts) (h.none d) (k.none d) }

  first-piece : (t : Tree) (ts : Trees) → Pieces (t before ts) → Piece t
  first-piece t ts h = record { part = (among-parts o s t ts h.among).0; none = λ d. first-of (holds (is_wrapped_for o) t) (holds_trees (is_wrapped_for o) ts) (h.none d) }

  rest-pieces : (t : Tree) (ts : Trees) → Pieces (t before ts) → Pieces ts
  rest-pieces t ts h = record { among = (among-parts o s t ts h.among).1; none = λ d. second-of (holds (is_wrapped_for o) t) (holds_trees (is_wrapped_for o) ts) (h.none d) }

  abbrev ArePieces : List Tree → Type 0
  ArePieces [] = Unit {0}
  ArePieces (t ∷ ts) = Piece t × ArePieces ts

  both-pieces : (ts us : List Tree) → ArePieces ts → ArePieces us → ArePieces (ts ++ us)
  both-pieces [] us h k = k
  both-pieces (t ∷ ts) us h k = (h.0, both-pieces ts us h.1 k)

  pieces-among : (ts : List Tree) → ArePieces ts → Pieces (trees ts)
  pieces-among [] h = record { among = among-none o s; none = λ d. refl }
  pieces-among (t ∷ ts) h = more-pieces t (trees ts) h.0 (pieces-among ts h.1)

  -- what a spread copies
  operand : (l : Label) (e : Tree) → Piece (node SpreadElement l (one e then done)) → Piece e
  operand l e h =
      let fs = one e then done in
      let sites = site_in (some_site s) SpreadElement l (opened_fields (is_body SpreadElement) fs) in
      let passes = (and_parts (is_placed o (some_site s) SpreadElement l fs) (each_passes (is_placed o) (sites 0) e && true) (h.part.valued (some_site s) (record { scope = λ y u. refl; parameters = λ y u. refl }) refl)).1 in
      record {
        part = part-at o s (sites 0) e (record { scope = λ y u. refl; parameters = λ y u. refl }) (and_parts (each_passes (is_placed o) (sites 0) e) true passes).0 (record { tidy = λ on. first-of (strays false e) false (h.part.marked.tidy on); full = λ on. first-of (any_node is_unmarked_chain e) false (h.part.marked.full on) });
        none = λ d. first-of (holds (is_wrapped_for o) e) false (second-of (is_wrapped_for o SpreadElement l fs) _ (h.none d));
      }

  -- WHAT IS MADE

  -- a call of the helper, wherever it is placed
  call-made : (l : Label) (ts : Trees) → flag l.flags ≡ false → Pieces ts → Made o s (node CallExpression l (one the_helper then many ts then done))
  call-made l ts unmarked h = made-called o s l the_helper ts unmarked (made-static o s (codes "babelHelpers") (codes "objectSpread2")) h.among

  call-holds : (l : Label) (ts : Trees) → Pieces ts → within ≡ true → holds (is_wrapped_for o) (node CallExpression l (one the_helper then many ts then done)) ≡ false
  call-holds l ts h d =
      let fs = one the_helper then many ts then done in
      two-hold-none (is_wrapped_for o CallExpression l fs) (holds (is_wrapped_for o) the_helper) (holds_trees (is_wrapped_for o) ts) (unwrapped o CallExpression l fs (no-nullish o) refl refl refl refl) (static-holds o (codes "babelHelpers") (codes "objectSpread2")) (h.none d)

  -- the copy so far
  data SoFar : Option Tree → Type 0 where
    no_copy : SoFar None
    a_copy : (ts : List Tree) → ArePieces ts → SoFar (Some (call_node the_helper ts))

  so-far : (c : Tree) → SoFar (Some c) → Piece c
  so-far c (a_copy ts h) =
      let l = made [] (false ∷ []) in
      let inside = pieces-among ts h in
      record { part = part-of o s (call_node the_helper ts) (call-made l (trees ts) refl inside); none = call-holds l (trees ts) inside }

  -- properties since the last spread
  record Properties (ps : List Tree) : Type 0 where
    pieces : ArePieces ps
    no_spread : any_kind is_spread (trees ps) ≡ false

  no-properties : Properties []
  no-properties = record { pieces = tt; no_spread = refl }

  an-object : (ps : List Tree) → Properties ps → Piece (object_node ps)
  an-object ps h =
      let fs = many (trees ps) then done in
      let inside = pieces-among ps h.pieces in
      record {
        part = part-of o s (object_node ps) (made-object o s (made [] []) (trees ps) h.no_spread inside.among);
        none = λ d. or_from (is_wrapped_for o ObjectExpression (made [] []) fs) (holds_trees (is_wrapped_for o) (trees ps) || false) (unwrapped o ObjectExpression (made [] []) fs (no-nullish o) refl refl refl refl) (or_from (holds_trees (is_wrapped_for o) (trees ps)) false (inside.none d) refl);
      }

  copied-so : (c : Option Tree) (ps : List Tree) (e : Tree) → SoFar c → Properties ps → Piece e → SoFar (Some (copied the_helper c ps e))
  copied-so None ps e g h k = a_copy (object_node ps ∷ e ∷ []) (an-object ps h, (k, tt))
  copied-so (Some c) [] e g h k = a_copy (c ∷ e ∷ []) (so-far c g, (k, tt))
  copied-so (Some c) (p ∷ ps) e g h k = a_copy (c ∷ object_node [] ∷ object_node (p ∷ ps) ∷ e ∷ []) (so-far c g, (an-object [] no-properties, (an-object (p ∷ ps) h, (k, tt))))

  last-so : (c : Option Tree) (ps : List Tree) → is_some c ≡ true → SoFar c → Properties ps → SoFar (Some (last_copied the_helper c ps))
  last-so None ps e g h = absurd (cc e)
  last-so (Some c) [] e g h = g
  last-so (Some c) (p ∷ ps) e g h = a_copy (c ∷ object_node [] ∷ object_node (p ∷ ps) ∷ []) (so-far c g, (an-object [] no-properties, (an-object (p ∷ ps) h, tt)))

  later : (c b r : Bool) → b ≡ false → (c || (b || r)) ≡ true → (c || r) ≡ true
  later true b r h e = refl
  later false true r h e = absurd (true≢false h)
  later false false r h e = e

  all-so : (c : Option Tree) (ps : List Tree) (ts : Trees) (u : Tree) → Copies the_helper c ps ts u → (is_some c || any_kind is_spread ts) ≡ true → SoFar c → Properties ps → Pieces ts → SoFar (Some u)
  all-so None ps ts u no_more e g h k = absurd (cc e)
  all-so (Some c) ps ts u no_more e g h k = last-so (Some c) ps refl g h
  all-so c ps ts u (copies {l = l} {e = x} {ts = rest} r) e g h k =
      let value = operand l x (first-piece (node SpreadElement l (one x then done)) rest k) in
      all-so (Some (copied the_helper c ps x)) [] rest u r refl (copied-so c ps x g h value) no-properties (rest-pieces (node SpreadElement l (one x then done)) rest k)
  all-so c ps ts u (keeps {t = t} {ts = rest} other r) e g h k =
      let more : Properties (ps ++ t ∷ []) = record { pieces = both-pieces ps (t ∷ []) h.pieces (first-piece t rest k, tt); no_spread = more-spreads ps t h.no_spread other } in
      all-so c (ps ++ t ∷ []) rest u r (later (is_some c) (is_spread (kind_of t)) (any_kind is_spread rest) other e) g more (rest-pieces t rest k)

module _ (o : EnvOptions) where
  -- the properties of an object literal
  pieces-of : (n : Site) (m : Label) (ps : Trees) → Wrapped o n (node ObjectExpression m (many ps then done)) → Pieces o (scope_at n) (in_open_slot n.above) ps
  pieces-of n m ps h =
      let fs = many ps then done in
      let site = site_in n ObjectExpression m (opened_fields (is_body ObjectExpression) fs) 0 in
      let passes = (and_parts (is_placed o n ObjectExpression m fs) (each_passes_among (is_placed o) site ps && true) h.known.placed).1 in
      record {
        among = among-at o (scope_at n) site ps (record { scope = λ y u. refl; parameters = λ y u. refl }) (and_parts (each_passes_among (is_placed o) site ps) true passes).0 (λ on. first-of (strays_nodes false ps) false (h.known.marked.tidy on)) (λ on. first-of (any_in_trees is_unmarked_chain ps) false (h.known.marked.full on));
        none = λ d. first-of (holds_trees (is_wrapped_for o) ps) false (second-of (is_wrapped_for o ObjectExpression m fs) _ (h.slot d));
      }

  placed-free : (n : Site) (m : Label) (u : Tree) → is_past_chains o n ≡ true → SoFar o (scope_at n) (in_open_slot n.above) (Some u) → is_free o n (placed m u) ≡ true
  placed-free n m u past (a_copy ts h) =
      let l = record (made [] (false ∷ [])) { start = m.start; stop = m.stop } in
      let v = placed m (call_node the_helper ts) in
      let inside = pieces-among o (scope_at n) (in_open_slot n.above) ts h in
      let known = known-made o n v past (call-made o (scope_at n) (in_open_slot n.above) l (trees ts) refl inside) refl in
      free-of o n v (is-wrapped o n v (record { slot = call-holds o (scope_at n) (in_open_slot n.above) l (trees ts) inside; known = known })) (none-where o.es2020.optional_chaining false (λ on. refl))

  spread-free : (n : Site) (w : Whole) (bs : List Bound) (t u : Tree) → SpreadRule n w bs t u → is_free o n t ≡ true → is_free o n u ≡ true
  spread-free n w bs t u (spreads {m = m} {ps = ps} {u = v} unbound used some silent r) e =
      let it = wrapped-of o n t (wrapped-free o n t e) in
      placed-free n m v it.known.past (all-so o (scope_at n) (in_open_slot n.above) None [] ps v r some no_copy (no-properties o (scope_at n) (in_open_slot n.above)) (pieces-of n m ps it))

  no-temporary : (n : Site) (w : Whole) (bs : List Bound) (t u : Tree) → SpreadRule n w bs t u → (takes_one bs && in_open_slot n.above) ≡ false
  no-temporary n w bs t u (spreads unbound used some silent r) = refl

pub spread-keeps : (o : EnvOptions) → is_some o.es2018.object_rest_spread ≡ true → Keeps (is_free o) (is_free o) SpreadRule
spread-keeps o on = record {
  outside = λ n w bs s t u form e r. no-temporary o n w bs t u r;
  known = λ n w bs s t u form e r. spread-free o n w bs t u r e;
}
