-- A `catch` that takes a parameter keeps the conditions: the name hides nothing that is asked for in the body.
use Rattle.std.proofs.Common.{◌≡◌, ◌∙◌, Bool, true, false, refl, sym, ap, true≢false}
use Rattle.std.specs.Prelude.{◌&&◌, ℕ, bytes_eq}
use Rattle.std.proofs.lemmas.Bool.{and_parts, and_from}
use Rattle.es_tree.specs.Tree.{Tree, Label, Fields, done, ◌then◌, Field, missing, one, label_of}
use Rattle.es_tree.specs.Words.{Text}
use Rattle.es_tree.specs.declared.ast_type.AstType.TheVariants.{CatchClause}
use Rattle.es_tree.specs.declared.options.EnvOptions.{EnvOptions}
use Rattle.es_resolution.specs.Declarations.{Bound}
use Rattle.es_resolution.proofs.Basics.{bytes_eq-equal}
use Rattle.es_steps.specs.Nodes.{identifier}
use Rattle.es_steps.specs.Open.{is_body, opened_fields}
use Rattle.es_steps.specs.Steps.{Site, site_in}
use Rattle.es_changes.specs.Rules.{is_asked_for}
use Rattle.es_conditions.specs.CoreConditions.{each_passes, is_free, is_placed}
use Rattle.es_conditions.specs.Laws.{LawCatch, catching}
use Rattle.es_conditions.proofs.Inward.{Known}
use Rattle.es_conditions.proofs.Marks.{none-where}
use Rattle.es_conditions.proofs.Moves.{Moves, moved}
use Rattle.es_conditions.proofs.Parts.{made-identifier, moves-to-value, plain}
use Rattle.es_conditions.proofs.Rows.{free-of, is-wrapped, scope_at, wrapped-free, wrapped-of}
use Rattle.es_conditions.proofs.Unwrapped.{name-holds}

other-name : (x y : Text) → is_asked_for x ≡ false → is_asked_for y ≡ true → bytes_eq x y ≡ false
other-name x y e d = at (bytes_eq x y) refl
  where
    at : (c : Bool) → bytes_eq x y ≡ c → bytes_eq x y ≡ false
    at true h = absurd (true≢false (sym d ∙ (sym (ap is_asked_for (bytes_eq-equal x y h)) ∙ e)))
    at false h = h

abbrev clause_fields : Field → Tree → Fields
clause_fields parameter body = parameter then one body then done

module _ (o : EnvOptions) (n : Site) (m : Label) (body : Tree) (b : Bound) (other : is_asked_for b.name ≡ false) where
  -- `catch { .. }`, and `catch (b) { .. }`
  abbrev before : Tree
  before = catching m missing body

  abbrev after : Tree
  after = catching m (one (identifier b)) body

  -- what stands in a field of either
  abbrev site_of : Field → ℕ → Site
  site_of parameter = site_in n CatchClause m (opened_fields (is_body CatchClause) (clause_fields parameter body))

  -- the body finds what is asked for as before
  moves : Moves (site_of missing 1) (site_of (one (identifier b)) 1)
  moves = moves-to-value (scope_at (site_of missing 1)) (site_of missing 1) (site_of (one (identifier b)) 1) (record { scope = λ y u. refl; parameters = λ y u. refl }) (record { scope = λ y u. rw (other-name b.name y other u) refl; parameters = λ y u. refl }) refl

  catch-known : Known o n before → Known o n after
  catch-known h =
      let there = site_of (one (identifier b)) in
      let inside = (and_parts (is_placed o n CatchClause m (clause_fields missing body)) (each_passes (is_placed o) (site_of missing 1) body && true) h.placed).1 in
      let passes = moved o (site_of missing 1) (there 1) body moves (and_parts (each_passes (is_placed o) (site_of missing 1) body) true inside).0 in
      let name = (made-identifier o (scope_at (there 0)) b).anywhere (there 0) (λ y u. refl) in
      record {
        placed = and_from (is_placed o n CatchClause m (clause_fields (one (identifier b)) body)) _ (plain o n CatchClause m (clause_fields (one (identifier b)) body) refl refl refl) (rw (name, passes) refl);
        marked = record { tidy = h.marked.tidy; full = h.marked.full };
        value = λ on c. absurd (true≢false (sym c));
        past = h.past;
      }

  catch-free : is_free o n before ≡ true → is_free o n after ≡ true
  catch-free e =
      let it = wrapped-of o n before (wrapped-free o n before e) in
      free-of o n after (is-wrapped o n after (record { slot = λ d. rw (name-holds o (label_of (identifier b))) (it.slot d); known = catch-known it.known })) (none-where o.es2020.optional_chaining false (λ d. refl))

pub law_catch_proof : LawCatch
law_catch_proof o n m body b other e = catch-free o n m body b other e
