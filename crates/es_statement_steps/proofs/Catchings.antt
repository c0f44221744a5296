-- Optional catch keeps the runs of statements: nothing reads the parameter.
use Rattle.std.proofs.Common.{◌≡◌, refl, ap, List, [], ◌∷◌}
use Rattle.std.specs.Prelude.{Bool, true, false, ◌||◌, Some, bytes_eq, codes, if◌then◌else◌}
use Rattle.es_tree.specs.Fresh.{IsFreshName}
use Rattle.es_tree.specs.Scopes.{Declared}
use Rattle.es_tree.specs.Tree.{Tree, node, Label, done, ◌then◌, missing, one, kind_of}
use Rattle.es_tree.specs.Words.{Text}
use Rattle.es_tree.specs.declared.ast_type.AstType.TheVariants.{CatchClause}
use Rattle.es_runs.specs.Alike.{SameWorld}
use Rattle.es_runs.specs.Core.{World, name}
use Rattle.es_runs.proofs.Congruence.{nothing_like}
use Rattle.es_runs.proofs.Temporary.{bytes_eq-self}
use Rattle.es_resolution.specs.Declarations.{Bound}
use Rattle.es_steps.specs.CoreBridge.{names_among}
use Rattle.es_steps.specs.Nodes.{identifier}
use Rattle.es_steps.specs.OptionalCatch.{CatchRule}
use Rattle.es_steps.specs.OptionalCatch.CatchRule.{catches}
use Rattle.es_steps.specs.Steps.{Ledger, Site, Spot, Whole}
use Rattle.es_steps.specs.Steps.Spot.{at_node}
use Rattle.es_steps.proofs.FormRules.{AtNodes, no-names}
use Rattle.es_statement_runs.specs.Alike.{Quiet, SenseLike, StackSeen}
use Rattle.es_statement_runs.specs.Alike.MoreLike.{same_handles}
use Rattle.es_statement_runs.specs.Helpers.{Supply}
use Rattle.es_statement_runs.specs.Kinds.{sense}
use Rattle.es_statement_runs.specs.Laws.{among_names}
use Rattle.es_statement_runs.specs.Names.{var_names}
use Rattle.es_statement_runs.specs.Places.{SupplySeen, Take, avoids, placed_at, value_taken}
use Rattle.es_statement_runs.proofs.BareVars.{MoreDeclared, unsaid_inside}
use Rattle.es_statement_runs.proofs.BareVars.MoreDeclared.{as_before, none_declared}
use Rattle.es_statement_runs.proofs.Catches.{declared_putter, hide_scope, hide_set, own_binding}
use Rattle.es_statement_runs.proofs.Everywhere.{both_left}
use Rattle.es_statement_runs.proofs.KindsAlike.{inner}
use Rattle.es_statement_runs.proofs.Moved.{BothMute}
use Rattle.es_resolution.specs.Resolved.{Resolved}
use Rattle.es_statement_runs.specs.Helpers.Supply.{no_helpers}
use Rattle.es_statement_runs.proofs.MeantProof.{entered_free as no_helper_inside}
use Rattle.es_statement_steps.proofs.FoundNames.{Finds}
use Rattle.es_statement_steps.proofs.Rooms.{stays_put}
use Rattle.es_statement_steps.proofs.NewNames.{new-fresh}
use Rattle.es_statement_steps.proofs.RowRuns.{KeepsRuns, WorldsKnown, bad_temporaries, part-like, temporaries_frame}
use Rattle.es_statement_steps.proofs.StepMoves.{Acting, AreNew, Fine, NodeRule, taken_at}

-- THE RULE AT A CLAUSE

pub data CatchMade (w : Whole) : List Bound → Tree → Tree → Type 0 where
  made_catch : {m : Label} {b : Tree} {x : Bound} → IsFreshName w.in_use (codes "unused") x.name → CatchMade w (x ∷ []) (node CatchClause m (missing then one b then done)) (node CatchClause m (one (identifier x) then one b then done))

abbrev pub CatchRow : List Bound → Site → Whole → Tree → Tree → Type 0
CatchRow new n w t u = CatchMade w new t u

catch-nodes : (n : Site) (s s' : Ledger) (x y : Spot) → CatchRule n s x s' y → AtNodes x y
catch-nodes n s s' x y (catches fresh) = tt

catch-acting : (n : Site) (s s' : Ledger) (t u : Tree) → CatchRule n s (at_node t) s' (at_node u) → Acting false CatchRow n s s' t u
catch-acting n s s' t u (catches {w = w} {p = p} {x = x} fresh) = record { new = record { name = x; symbol = Some w.free_symbol } ∷ []; pending = no-names p; this = refl; top = refl; rule = made_catch fresh }

catch-new : (new : List Bound) (n : Site) (w : Whole) (t u : Tree) → CatchRow new n w t u → AreNew w new
catch-new new n w t u (made_catch {x = x} fresh) = new-fresh w (codes "unused") x fresh

same-declared : (xs : List Text) (ds : List Declared) → MoreDeclared (codes "var") xs ds ds
same-declared xs [] = none_declared
same-declared xs (d ∷ ds) = as_before (same-declared xs ds)

catch-mute : (new : List Bound) (n : Site) (w : Whole) (t u : Tree) → CatchRow new n w t u → Fine t → Fine u → BothMute (names_among new) t u
catch-mute new n w t u (made_catch {m = m} {b = b} {x = x} fresh) fine after = record { first = refl; second = refl; vars = same-declared (names_among (x ∷ [])) (var_names (node CatchClause m (missing then one b then done))) }

pub catch-rule : NodeRule CatchRule CatchRow
catch-rule = record {
  hoisted = false;
  nodes = catch-nodes;
  acting = catch-acting;
  new_names = catch-new;
  acts_on = λ new n w t u h. acts t u h;
  mute = catch-mute;
}
  where
    acts : {w : Whole} {new : List Bound} (t u : Tree) → CatchMade w new t u → stays_put (kind_of t) ≡ false
    acts t u (made_catch fresh) = refl

pub catch-stays : catch-rule.hoisted ≡ false
unfolding catch-rule
catch-stays = refl

-- THE CLAUSES ARE ALIKE

module _ (no_all : Bool) (u : Supply) where
  abbrev with_name : Text → Declared
  with_name x = record { name = x; kind = codes "let" }

  not-other : (b : Bool) → (b || false) ≡ false → b ≡ false
  not-other true h = absurd (cc h)
  not-other false h = refl

  one-more : (x : Text) (w v : World) → SameWorld (among_names (x ∷ [])) w v → SameWorld (among_names (x ∷ [])) (inner w []) (inner v (with_name x ∷ []))
  one-more x w v same = record { scope = λ y e. rw (not-other (bytes_eq y x) e) (same.scope y e); this = same.this; counts = same.counts }

  known-more : (x : Text) (ds : List Declared) (w v : World) → WorldsKnown no_all false (x ∷ []) ds w v → WorldsKnown no_all false (x ∷ []) ds (inner w []) (inner v (with_name x ∷ []))
  known-more x ds w v k = record {
    temporaries = λ e z h. absurd (cc e);
    bound = k.bound;
    unsaid = λ z h. ((k.unsaid z h).0, (unsaid_inside (among_names (x ∷ [])) (with_name x ∷ []) w v k.unsaid z h).1);
    rest = record { other = k.rest.other; spreads = k.rest.spreads };
    counts = k.counts;
    free = k.free;
    free_after = no_helper_inside no_helpers (with_name x ∷ []) v [] [] k.free_after;
  }

  pub catch-keeps : KeepsRuns no_all u false CatchRow
  catch-keeps = record { alike = alike }
    where
      alike : (new : List Bound) (n : Site) (whole : Whole) (a b : Tree) → CatchRow new n whole a b → (t : Take) → t ≡ taken_at n.above → (ds : List Declared) → Resolved n.role n.names a → Finds ds n.names → Fine a → avoids (bad_temporaries (names_among new)) t a ≡ true →
          Quiet (temporaries_frame false (names_among new)) → StackSeen (temporaries_frame false (names_among new)) → SupplySeen (temporaries_frame false (names_among new)) u →
          (w v : World) → SameWorld (among_names (names_among new)) w v → WorldsKnown no_all false (names_among new) ds w v → (ls : List Text) (y : Text) → SenseLike (temporaries_frame false (names_among new)) w v t (sense (placed_at u w ls y) a) (sense (placed_at u v ls y) b)
      alike new n whole a b (made_catch {m = m} {b = c} {x = x} fresh) t taken ds resolved found fine away quiet stack seen w v same known ls y =
          let hidden = among_names (x.name ∷ []) in
          let here : hidden x.name ≡ true = ap (λ b. b || false) (bytes_eq-self x.name) in
          let body = part-like no_all u false (x.name ∷ []) quiet stack seen (inner w []) (inner v (with_name x.name ∷ [])) (one-more x.name w v same) ds (known-more x.name ds w v known) value_taken c (both_left (avoids (bad_temporaries (x.name ∷ [])) value_taken c) true away) [] [] in
          rw (own_binding v x.name (codes "let"), declared_putter u (inner v (with_name x.name ∷ [])) (codes "let") (name x.name)) (record {
            core = nothing_like (temporaries_frame false (x.name ∷ [])) w v same t.need;
            more = λ _. same_handles (λ z. hide_scope hidden x.name [] here (hide_set hidden x.name z here body.core.evaluation));
          })
