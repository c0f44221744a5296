-- Statements one after the other: steps of the rule, each from a program that has form, breaks no static rule and is well bound.
use Rattle.std.proofs.Common.{arith, ◌≡◌, ℕ, suc, ◌+◌, refl, sym, subst, List, [], ◌∷◌}
use Rattle.std.specs.Prelude.{Bool, true, false, codes, map}
use Rattle.es_tree.specs.Fresh.{also}
use Rattle.es_tree.specs.HasForm.{has_form}
use Rattle.es_tree.specs.Names.{first_text}
use Rattle.es_tree.specs.StaticRules.{breaks}
use Rattle.es_tree.specs.Tree.{Label, Field, Trees, empty, ◌before◌, trees}
use Rattle.es_tree.specs.Words.{Text}
use Rattle.es_tree.specs.declared.table.Sort.TheVariants.{Program as s-Program}
use Rattle.es_resolution.specs.Declarations.{Bound}
use Rattle.es_steps.specs.Laws.{IsWellBound, nothing_beside}
use Rattle.es_steps.specs.Nodes.{joined_trees}
use Rattle.es_steps.specs.Open.{opened}
use Rattle.es_steps.specs.Rules.{next_name, with_made}
use Rattle.es_steps.specs.Steps.{Step, Steps, Whole, the_program}
use Rattle.es_steps.specs.Steps.Steps.{goes, stays}
use Rattle.es_steps.proofs.FormParts.{IsText}
use Rattle.es_steps.proofs.StepsKept.{reached-keeps}
use Rattle.es_steps.proofs.Written.{joined-twice}
use Rattle.es_top_imports.specs.Laws.{AreNew, locals, with_each}
use Rattle.es_top_imports.specs.TopImports.{Import, TopRule, top_of}
use Rattle.es_top_imports.proofs.TopForms.{program-formed, program_with}
use Rattle.es_top_imports.proofs.TopRules.{top-lawful, top-writes}
use Rattle.es_top_imports.proofs.TopStatic.{IsTop, breaks-none, import-top}
use Rattle.es_top_imports.proofs.TopSteps.{RequireUnbound, require-stays, the-step}

module _ (in_module : Bool) (l : Label) (d : Field) (module_text : in_module ≡ true → first_text l.texts ≡ codes "module") where
  -- what is known of a program of this list
  pub record Ready (w : Whole) (ts : Trees) : Type 0 where
    pub form : has_form s-Program (program_with l d ts) ≡ true
    pub kept : breaks (program_with l d ts) ≡ []
    pub bound : IsWellBound w (program_with l d ts)
    pub require : RequireUnbound in_module w (program_with l d ts)

  -- and where steps lead from it
  pub record Reached (w w' : Whole) (ts us : Trees) : Type 0 where
    pub steps : Steps (Step (TopRule in_module) the_program) (nothing_beside w) (opened (program_with l d ts)) (nothing_beside w') (opened (program_with l d us))
    pub ready : Ready w' us

  -- ONE STATEMENT

  module _ (w : Whole) (before_it after_it : Trees) (source x : Text) (free : w.in_use x ≡ false) (named : IsText (next_name w x)) (h : Ready w (joined_trees before_it after_it)) where
    abbrev one_import : Import
    one_import = record { source = source; local = next_name w x }

    abbrev with_it : Trees
    with_it = joined_trees before_it (top_of in_module one_import before after_it)

    abbrev whole_after : Whole
    whole_after = with_made (next_name w x ∷ []) w

    is_top : IsTop in_module (x ∷ []) l (top_of in_module one_import)
    is_top = import-top in_module l module_text one_import named

    step : Step (TopRule in_module) the_program (nothing_beside w) (opened (program_with l d (joined_trees before_it after_it))) (nothing_beside whole_after) (opened (program_with l d with_it))
    step = the-step in_module w l d before_it after_it source x free h.require

    ready-after : Ready whole_after with_it
    ready-after = record {
      form = program-formed l d before_it after_it (top_of in_module one_import) is_top.form h.form;
      kept = breaks-none w l d before_it after_it (top_of in_module one_import) in_module (x ∷ []) (free, tt) is_top h.form h.kept h.bound.named;
      bound = reached-keeps (TopRule in_module) (top-lawful in_module) (top-writes in_module) (program_with l d (joined_trees before_it after_it)) (program_with l d with_it) w whole_after refl h.bound (goes step stays);
      require = require-stays in_module w l d before_it after_it source x free h.bound.named h.require;
    }

  -- SOME

  next-free : (m : ℕ) → suc m ≡ m + 1
  next-free m = omega arith

  abbrev Leads : List Import → Whole → Trees → Trees → Type 0
  Leads is w before_it after_it = Reached w (with_each (locals is) w) (joined_trees before_it after_it) (joined_trees before_it (joined_trees (trees (map (top_of in_module) is)) after_it))

  -- one, and then the others
  one-then : (is : List Import) → ((w : Whole) (before_it after_it : Trees) → AreNew w.in_use w.free_symbol (locals is) → Ready w (joined_trees before_it after_it) → Leads is w before_it after_it) → (w : Whole) (before_it after_it : Trees) (source x : Text) → w.in_use x ≡ false → IsText (next_name w x) → AreNew (also x w.in_use) (suc w.free_symbol) (locals is) → Ready w (joined_trees before_it after_it) → Leads (record { source = source; local = next_name w x } ∷ is) w before_it after_it
  one-then is others w before_it after_it source x free named new h =
      let t = top_of in_module (record { source = source; local = next_name w x }) in
      let w' = with_made (next_name w x ∷ []) w in
      let front = joined_trees before_it (t before empty) in
      let later = joined_trees (trees (map (top_of in_module) is)) after_it in
      let first = step w before_it after_it source x free named h in
      let ready = ready-after w before_it after_it source x free named h in
      let new_later = subst (λ (m : ℕ). AreNew (also x w.in_use) m (locals is)) (next-free w.free_symbol) new in
      let rest = others w' front after_it new_later (subst (λ (ts : Trees). Ready w' ts) (sym (joined-twice before_it (t before empty) after_it)) ready) in
      let at = subst (λ (ts : Trees). Reached w' (with_each (locals is) w') ts (joined_trees before_it (t before later))) (joined-twice before_it (t before empty) after_it) (subst (λ (us : Trees). Reached w' (with_each (locals is) w') (joined_trees front after_it) us) (joined-twice before_it (t before empty) later) rest) in
      record { steps = goes first at.steps; ready = at.ready }

  pub reaches : (is : List Import) (w : Whole) (before_it after_it : Trees) → AreNew w.in_use w.free_symbol (locals is) → Ready w (joined_trees before_it after_it) → Leads is w before_it after_it
  reaches [] w before_it after_it new h = record { steps = stays; ready = h }
  reaches (i ∷ is) w before_it after_it new h =
      let x = i.local.name in
      let local : next_name w x ≡ i.local = sym (λ j. record { name = x; symbol = new.2 j }) in
      subst (λ (b : Bound). Leads (record { source = i.source; local = b } ∷ is) w before_it after_it) local (one-then is (reaches is) w before_it after_it i.source x new.0 new.1 new.3 h)
