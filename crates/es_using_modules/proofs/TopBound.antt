-- The rule of `using` at the top of a module keeps bindings: a program that has form, breaks no static rule and whose names are bound is so afterwards,
-- and each name keeps its binding.
use Rattle.std.proofs.Common.{◌≡◌, ℕ, zero, suc, refl, sym, subst, ◌∙◌, []}
use Rattle.std.specs.Prelude.{Bool, true, false, ◌&&◌, ◌||◌, Option, None, bytes_eq, codes}
use Rattle.std.proofs.lemmas.Bool.{and_parts, le-leb}
use Rattle.es_tree.specs.Fresh.{candidate, text_base}
use Rattle.es_tree.specs.HasForm.{has_form, trees_form}
use Rattle.es_tree.specs.StaticRules.{breaks}
use Rattle.es_tree.specs.Tree.{Tree, node, Label, done, ◌then◌, many, statements, Trees}
use Rattle.es_tree.specs.Words.{Text}
use Rattle.es_tree.specs.declared.ast_type.AstType.TheVariants.{Program}
use Rattle.es_tree.specs.declared.table.Sort.TheVariants.{Program as s-Program, Statement as s-Statement}
use Rattle.es_tree.proofs.NodeForm.{node_form}
use Rattle.es_semantic.specs.RolesOf.{reads}
use Rattle.es_resolution.specs.Declarations.{Bound}
use Rattle.es_resolution.proofs.Basics.{bytes_eq-self}
use Rattle.es_resolution.proofs.Forms.{form-placed}
use Rattle.es_steps.specs.Bindings.{Bindings, comes_from, is_made, stands}
use Rattle.es_steps.specs.Identifiers.{Passes, any_name, is_called}
use Rattle.es_steps.specs.Laws.{IsWellBound}
use Rattle.es_steps.specs.Open.{Additions, Pending, no_additions, nothing_pending}
use Rattle.es_steps.specs.Rules.{next_name}
use Rattle.es_steps.specs.Steps.{Site, Whole}
use Rattle.es_steps.specs.Steps.Ledger.{ledger}
use Rattle.es_steps.specs.Steps.Spot.{at_list}
use Rattle.es_steps.specs.UsingBlocks.{error_of, with_context}
use Rattle.es_steps.proofs.BoundOnce.{bound-once}
use Rattle.es_steps.proofs.Passing.{called-passes, passes-called, passes-less}
use Rattle.es_steps.proofs.Reached.{names-stand}
use Rattle.es_steps.proofs.Taken.{Allows}
use Rattle.es_valid_names.proofs.BareNames.{law_declared_among_proof}
use Rattle.es_valid_names.proofs.Claims.{Clear, elsewhere}
use Rattle.es_valid_names.proofs.NameSteps.{around, start-clear}
use Rattle.es_valid_names.proofs.StartUsed.{start-used}
use Rattle.es_valid_steps.proofs.Visits.{law_among_proof, law_places_proof}
use Rattle.es_pattern_moves.proofs.Settled.{Sound, all-sound}
use Rattle.es_resolution.proofs.AllForms.{All}
use Rattle.es_top_imports.specs.Laws.{list_place}
use Rattle.es_using_modules.specs.ModuleTops.{by_bounds, inside, outside, some_default, topped_list}
use Rattle.es_using_modules.specs.TopRule.{TopRule, with_default}
use Rattle.es_using_modules.specs.TopRule.TopRule.{by_default, without_default}
use Rattle.es_using_modules.proofs.TopMade.{Makes, makes-alone, makes-default}
use Rattle.es_using_modules.proofs.TopMoves.{Moves, moves-are}
use Rattle.es_using_modules.proofs.TopProgram.{is-named, is-resolved, is-single, passes-new}

-- a program with this list
abbrev pub program_with : Label → Trees → Trees → Tree
program_with l ds ts = node Program l (many ds then (statements ts then done))

-- what is known of what it becomes
pub record Topped (w w' : Whole) (p q : Tree) : Type 0 where
  pub bound : IsWellBound w' q
  pub bindings : Bindings p q w w'

list-formed : (l : Label) (ds ts : Trees) → has_form s-Program (program_with l ds ts) ≡ true → trees_form s-Statement s-Statement ts ≡ true
list-formed l ds ts f = (and_parts (trees_form s-Statement s-Statement ts) true (and_parts _ _ (node_form s-Program Program l (many ds then (statements ts then done)) f).children).1).0

module _ (w v : Whole) (d : Bound) (x : Text) (l : Label) (ds ts : Trees) (h : Tree) (makes : Makes w v (some_default ts) d x) (form : has_form s-Program (program_with l ds ts) ≡ true) (kept : breaks (program_with l ds ts) ≡ []) (bound : IsWellBound w (program_with l ds ts)) (helpers : (list_place (program_with l ds ts)).scope (codes "babelHelpers") ≡ None) (helpers_used : w.in_use (codes "babelHelpers") ≡ true) where
  abbrev after : Whole
  after = with_context x v

  abbrev old : Tree
  old = program_with l ds ts

  abbrev new : Tree
  new = program_with l ds (topped_list (by_bounds d (next_name v x) (error_of v)) h ts)

  abbrev os : Trees
  os = outside (by_bounds d (next_name v x) (error_of v)) ts

  abbrev us : Trees
  us = inside (by_bounds d (next_name v x) (error_of v)) ts

  clear : Clear (around w.in_use old) elsewhere old
  clear = start-clear w.in_use old form (law_declared_among_proof old kept) (start-used w.in_use w.free_symbol old form bound.named)

  moves : Moves d (next_name v x) (error_of v) ts os us
  moves = moves-are d (next_name v x) (error_of v) _ ts (list-formed l ds ts form) clear.2.1.0

  sound : All Sound old
  sound = all-sound s-Program old form ((law_places_proof old).to_places (law_among_proof old kept))

  named-so : Passes (is_called after.called) new
  named-so = passes-new w v d x l ds ts os us makes moves (list-formed l ds ts form) sound (form-placed old form).1 bound (is_called after.called) (record { words = λ y. refl; new = λ m e f. bytes_eq-self (after.called m) }) (called-passes w.called after.called w.free_symbol makes.same w.in_use reads old bound.named bound.called bound.class_names)

  well-bound : IsWellBound after new
  well-bound =
      let named = is-named w v d x l ds ts os us makes moves (list-formed l ds ts form) sound (form-placed old form).1 bound helpers helpers_used in
      record {
        resolved = is-resolved w v d x l ds ts os us makes moves (list-formed l ds ts form) sound (form-placed old form).1 bound helpers helpers_used;
        single = is-single w v d x l ds ts os us makes moves (list-formed l ds ts form) sound (form-placed old form).1 bound;
        named = named;
        called = passes-called after.called after.called after.free_symbol (λ m e. refl) after.in_use reads new named named-so;
        class_names = passes-less (is_called after.called) any_name (λ y s e. refl) new named-so;
      }

  or-left : (a b : Bool) → a ≡ true → (a || b) ≡ true
  or-left a b e = λ i. e i || b

  or-right : (a b : Bool) → b ≡ true → (a || b) ≡ true
  or-right true b e = refl
  or-right false b e = e

  allows : Allows (comes_from old w after) w after
  allows = record { words = λ y. refl; new = λ m e f. or-right (stands (after.called m) m old) (is_made w after (after.called m) m) (λ i. le-leb w.free_symbol m e i && bytes_eq-self (after.called m) i) }

  pub is-topped : Topped w after old new
  is-topped =
      let start = names-stand (comes_from old w after) (λ y. refl) old (λ y m e. or-left (stands y m old) (is_made w after y m) e) bound.class_names in
      record {
        bound = well-bound;
        bindings = record {
          names = passes-new w v d x l ds ts os us makes moves (list-formed l ds ts form) sound (form-placed old form).1 bound (comes_from old w after) allows start;
          called = well-bound.called;
          same_names = makes.same;
          resolved = well-bound.resolved;
          bound_once = bound-once new well-bound.resolved well-bound.single;
        };
      }

-- the name of a default export is no `babelHelpers`
other-helpers : (n : ℕ) → bytes_eq (candidate (text_base (codes "default")) n) (codes "babelHelpers") ≡ false
other-helpers zero = refl
other-helpers (suc n) = refl

used-before : (a b : Bool) → b ≡ false → (a || b) ≡ true → a ≡ true
used-before true b e d = refl
used-before false b e d = absurd (cc (e, d))

-- BY THE RULE, at the place of the program's list

pub rule-binds : (n : Site) (w w' : Whole) (o o' : Pending) (y y' : Option Bound) (a a' : Additions) (l : Label) (ds ts us : Trees) → n.names ≡ list_place (program_with l ds ts) → TopRule n (ledger w o y a) (at_list nothing_pending None no_additions ts) (ledger w' o' y' a') (at_list nothing_pending None no_additions us) →
    has_form s-Program (program_with l ds ts) ≡ true → breaks (program_with l ds ts) ≡ [] → IsWellBound w (program_with l ds ts) → Topped w w' (program_with l ds ts) (program_with l ds us)
rule-binds n w w' o o' y y' a a' l ds ts zs place (without_default h _ c uses none takes) form kept bound =
    is-topped w w (next_name w c) c l ds ts h (subst (λ (b : Bool). Makes w w b (next_name w c) c) (sym none) (makes-alone w c takes.fresh)) form kept bound ((λ i. (sym place i).scope (codes "babelHelpers")) ∙ takes.helpers) takes.helpers_used
rule-binds n w w' o o' y y' a a' l ds ts zs place (by_default h _ x c uses some fresh takes) form kept bound =
    is-topped w (with_default x w) (next_name w x) c l ds ts h (subst (λ (b : Bool). Makes w (with_default x w) b (next_name w x) c) (sym some) (makes-default w x c fresh.free takes.fresh)) form kept bound ((λ i. (sym place i).scope (codes "babelHelpers")) ∙ takes.helpers) (used-before (w.in_use (codes "babelHelpers")) (bytes_eq x (codes "babelHelpers")) (subst (λ (z : Text). bytes_eq z (codes "babelHelpers") ≡ false) (sym fresh.name) (other-helpers fresh.number)) takes.helpers_used)
