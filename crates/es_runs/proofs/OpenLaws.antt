-- The laws of the rules of core programs.
use Rattle.std.proofs.Common.{◌≡◌, refl, sym, ap, ◌∙◌, List, [], ◌∷◌, ◌++◌, map}
use Rattle.std.specs.Prelude.{Bool, true, false, codes, not}
use Rattle.es_tree.specs.Words.{Text}
use Rattle.es_tree.specs.Bare.{bare}
use Rattle.es_tree.specs.Core.{IsCoreProgram}
use Rattle.es_tree.specs.Scopes.{declared_of}
use Rattle.es_tree.specs.Tree.{Tree, node, Fields, done, ◌then◌, missing, one, many, statements}
use Rattle.es_tree.specs.declared.ast_type.AstType.TheVariants.{Program}
use Rattle.es_runs.specs.Machine.{Value, Move}
use Rattle.es_runs.specs.Runs.{made, run, run_where, outcome, is_declared}
use Rattle.es_runs.specs.Open.{Pending, nothing_pending, Open, opened, opened_fields, closed, declarator_node}
use Rattle.es_runs.specs.Open.Open.{open_node}
use Rattle.es_runs.specs.Open.OpenFields.{ends, ◌and◌}
use Rattle.es_runs.specs.Open.OpenField.{gap, child, children, list}
use Rattle.es_runs.specs.OpenSteps.{whole_of}
use Rattle.es_runs.specs.Rules.{IsTidy, strays}
use Rattle.es_runs.specs.OpenLaws.{declared_by_pending, pending_of, run_open, LawCoreRules, LawReached, LawReachedBindings}
use Rattle.es_runs.proofs.BareTrees.{declared_of-bare, run-bare}
use Rattle.es_runs.proofs.Written.{vars, pending_vars, plain}
use Rattle.es_runs.proofs.KnownPrograms.{source_known}
use Rattle.es_runs.proofs.OpenTrees.{closed-opened}
use Rattle.es_runs.proofs.OpenForm.{core_lists}
use Rattle.es_runs.proofs.OpenPlaces.{own_pending}
use Rattle.es_runs.proofs.TidyBare.{strays-bare}
use Rattle.es_runs.proofs.WithoutAll.{run_assumed}
use Rattle.es_runs.proofs.OpenRuns.{with_pending, IsOpenProgram, all_go}

-- WHERE STEPS BEGIN

opened_pending : (fs : Fields) → own_pending (open_node Program (made [] []) (opened_fields fs)) ≡ nothing_pending
opened_pending done = refl
opened_pending (f then done) = refl
opened_pending (f then (missing then fs)) = refl
opened_pending (f then (one t then fs)) = refl
opened_pending (f then (many ts then fs)) = refl
opened_pending (f then (statements ts then fs)) = refl

pub nothing_opened : (t : Tree) → own_pending (opened t) ≡ nothing_pending
nothing_opened (node k l fs) = opened_pending fs

same_declared : (t : Tree) → declared_of (closed (opened (bare t))) ≡ declared_of t
same_declared t = ap declared_of (closed-opened (bare t)) ∙ declared_of-bare t

-- a core program, with nothing pending
pub source_open : (p : Tree) → IsCoreProgram p → IsOpenProgram (whole_of p) (opened (bare p))
source_open p is =
    let same : closed (opened (bare p)) ≡ bare p = closed-opened (bare p) in
    record {
      names = [];
      pending = nothing_opened (bare p);
      one_list = rw same (core_lists p is);
      known = rw same (source_known p is);
    }

-- WHERE THEY END

pending_names-own : (o : Open) → pending_of o ≡ declared_by_pending (own_pending o)
pending_names-own (open_node k l ends) = refl
pending_names-own (open_node k l (d and ends)) = refl
pending_names-own (open_node k l (d and (gap and fs))) = refl
pending_names-own (open_node k l (d and (child t and fs))) = refl
pending_names-own (open_node k l (d and (children ts and fs))) = refl
pending_names-own (open_node k l (d and (list p ts and fs))) = refl

plain_declares : (xs : List Text) → declared_by_pending (plain xs) ≡ vars xs
plain_declares [] = refl
plain_declares (x ∷ xs) = ap (λ ds. record { name = x; kind = codes "var" } ∷ ds) (plain_declares xs)

open_run : (loose : Bool) (xs : List Text) (o : Open) → own_pending o ≡ plain xs → (this : Value) (moves : List Move) → run_where loose (pending_of o ++ declared_of (closed o)) (closed o) this moves ≡ run_where loose (with_pending xs o) (closed o) this moves
open_run loose xs o e this moves =
    let names : pending_of o ≡ vars xs = pending_names-own o ∙ ap declared_by_pending e ∙ plain_declares xs in
    ap (λ ds. run_where loose (ds ++ declared_of (closed o)) (closed o) this moves) names ∙ pending_vars loose xs (declared_of (closed o)) (closed o) this moves

none_plain : (xs : List Text) → plain xs ≡ nothing_pending → xs ≡ []
none_plain [] e = refl
none_plain (x ∷ xs) e = let k : map declarator_node (x ∷ xs) ≡ [] = ap (λ (p : Pending). p.vars) e in absurd (cc k)

-- the run of a tree with nothing pending
opened_run : (loose : Bool) (t : Tree) (this : Value) (moves : List Move) → run_where loose (declared_of (closed (opened (bare t)))) (closed (opened (bare t))) this moves ≡ run_where loose (declared_of t) t this moves
opened_run loose t this moves = ap (λ u. run_where loose (declared_of u) u this moves) (closed-opened (bare t)) ∙ run-bare loose t this moves

opened_tidy : (p : Tree) → IsTidy p → strays false (closed (opened (bare p))) ≡ false
opened_tidy p h = ap (strays false) (closed-opened (bare p)) ∙ strays-bare false p ∙ h

-- THE LAWS

pub law_core_rules_proof : LawCoreRules
unfolding source_open
law_core_rules_proof no_all p s o is tidy steps this moves assumed callable =
    let begin = run_assumed no_all (declared_of p) p this moves assumed in
    let end = run_assumed no_all (pending_of o ++ declared_of (closed o)) (closed o) this moves assumed in
    let start = opened_run (not no_all) p this moves in
    let found = all_go no_all steps (source_open p is) in
    let alike = found.same (opened_tidy p tidy) (is_declared (declared_of p)) (λ y e. rw (same_declared p) e) this moves (λ e. callable (ap outcome (begin ∙ sym start) ∙ e)) in
    rw (begin, ← start, end, open_run (not no_all) found.after.names o found.after.pending this moves) alike

pub law_reached_proof : LawReached
law_reached_proof no_all p q names is tidy reached this moves assumed callable =
    let alike = law_core_rules_proof no_all p _ (opened (bare q)) is tidy reached.steps this moves assumed callable in
    let target : run_open (opened (bare q)) this moves ≡ run q this moves = open_run true [] (opened (bare q)) (nothing_opened (bare q)) this moves ∙ opened_run true q this moves in
    rw (← target) alike

pub law_reached_bindings_proof : LawReachedBindings
unfolding source_open
law_reached_bindings_proof no_all p q names is reached y used =
    let found = all_go no_all reached.steps (source_open p is) in
    let none : found.after.names ≡ [] = none_plain found.after.names (sym found.after.pending ∙ nothing_opened (bare q)) in
    let target : is_declared (with_pending found.after.names (opened (bare q))) y ≡ is_declared (declared_of q) y = ap (λ xs. is_declared (with_pending xs (opened (bare q))) y) none ∙ ap (λ ds. is_declared ds y) (same_declared q) in
    sym target ∙ found.bound y used ∙ ap (λ ds. is_declared ds y) (same_declared p)
