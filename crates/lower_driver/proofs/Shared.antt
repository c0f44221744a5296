-- What a program becomes when its constructs are lowered: names stand for its lists of excluded keys, or it stays as it is.
use Rattle.std.proofs.Common.{◌≡◌, ◌∙◌, ◌*◌, ◌+◌, ◌≤◌, List, [], None, ap, arith, refl, subst, sym}
use Rattle.std.specs.Prelude.{Bool, true, false, ◌&&◌, codes, is_some, not, if◌then◌else◌, ◌||◌}
use Rattle.es_tree.specs.Constructs.{has_enabled_construct, is_object_rest}
use Rattle.es_tree.specs.HasForm.{has_form}
use Rattle.es_tree.specs.StaticRules.{breaks}
use Rattle.es_tree.specs.Tree.{Tree, tree_size}
use Rattle.es_tree.specs.Walks.{any_node}
use Rattle.es_tree.specs.Words.{Text}
use Rattle.es_tree.specs.declared.options.EnvOptions.{EnvOptions}
use Rattle.es_tree.specs.declared.table.Sort.TheVariants.{Program as s-Program}
use Rattle.es_resolution.specs.Laws.{source}
use Rattle.es_steps.specs.CoreBridge.{first_whole, is_written_name}
use Rattle.es_helper_calls.specs.Importing.{is_module}
use Rattle.es_top_imports.specs.Laws.{list_place}
use Rattle.es_excluded_keys.specs.ExcludedKeys.{shares_keys}
use Rattle.es_excluded_keys.specs.Laws.{IsShared}
use Rattle.es_excluded_keys.proofs.KeysShared.{law_keys_shared_proof}
use Rattle.es_excluded_keys.proofs.NoConstructs.{law_no_constructs_proof}
use Rattle.es_excluded_keys.proofs.SameSort.{same-sort}
use Rattle.es_excluded_keys.proofs.Sizes.{law_shared_size_proof}
use Rattle.lower_driver.specs.Lowers.{rests_there}
use Rattle.lower_driver.specs.SharesKeys.{SharesKeys}
use Rattle.es_tree.specs.Fresh.{is_among}
use Rattle.es_tree.specs.Names.{names_of}
use Rattle.es_constant_runs.proofs.SharedPrograms.{law_shared_runs_proof}
use Rattle.es_rest_results.specs.Laws.{RunsTaken}
use Rattle.es_statement_runs.specs.Helpers.Supply.{by_global}
use Rattle.es_statement_runs.specs.Runs.{RunAlike}
use Rattle.es_statement_runs.proofs.Composing.{law_then_proof}

-- WHERE NO OBJECT REST IS TAKEN none is shared

pub none-shares : (o : EnvOptions) (named : Bool) (p : Tree) → rests_there o p ≡ false → shares_keys o named p ≡ false
none-shares o named p none = at (is_some o.es2018.object_rest_spread) none
  where
    and-off : (b : Bool) → (b && false) ≡ false
    and-off true = refl
    and-off false = refl

    at : (on : Bool) → (on && any_node is_object_rest p) ≡ false → (on && (not named && any_node is_object_rest p)) ≡ false
    at true h = ap (λ b. not named && b) h ∙ and-off (not named)
    at false h = refl

-- told by a test that is made where rests are asked for alone
pub shares-as : (o : EnvOptions) (asked named : Bool) (p : Tree) → asked ≡ (is_some o.es2018.object_rest_spread && named) → shares_keys o asked p ≡ shares_keys o named p
shares-as o asked named p e = at (is_some o.es2018.object_rest_spread) e
  where
    at : (on : Bool) → asked ≡ (on && named) → (on && (not asked && any_node is_object_rest p)) ≡ (on && (not named && any_node is_object_rest p))
    at true h = ap (λ b. not b && any_node is_object_rest p) h
    at false h = refl

-- RUNS: with names for its lists a program in which rests were taken runs as it did

in-use : (p : Tree) (x : Text) → is_among (names_of p) x ≡ true → (first_whole p).in_use x ≡ true
in-use p x e = ap (λ b. b || is_written_name x) e

pub shared-run : (on : Bool) (p lowered shared : Tree) (names : List Text) → SharesKeys on lowered shared names → RunsTaken p lowered → RunAlike by_global false p shared
shared-run true p lowered shared names m taken =
    law_then_proof by_global false p lowered shared taken.runs (law_shared_runs_proof (first_whole lowered).in_use lowered shared names taken.class taken.no_name taken.leaves (in-use lowered) (m.goes refl)) taken.declared
shared-run false p lowered shared names m taken = subst (λ (t : Tree). RunAlike by_global false p t) (sym (m.stays refl).0) taken.runs

-- WHAT IT IS

module _ (on : Bool) (lowered shared : Tree) (names : List Text) (form : has_form s-Program lowered ≡ true) (right : breaks lowered ≡ []) (m : SharesKeys on lowered shared names) where
  pub is-shared : on ≡ true → IsShared lowered shared names
  is-shared e = law_keys_shared_proof lowered shared names form right (m.goes e)

  -- a program that breaks no static rule
  pub shared-program : (has_form s-Program shared ≡ true) × (breaks shared ≡ [])
  shared-program = at on refl
    where
      at : (b : Bool) → on ≡ b → (has_form s-Program shared ≡ true) × (breaks shared ≡ [])
      at true e = let there = is-shared e in (there.form, there.kept)
      at false e = rw (m.stays e).0 (form, right)

  -- at whose top a script binds no `require` where it bound none before
  pub shared-require : (is_module lowered ≡ false → (list_place (source lowered)).scope (codes "require") ≡ None) → is_module shared ≡ false → (list_place (source shared)).scope (codes "require") ≡ None
  shared-require free script = at on refl
    where
      at : (b : Bool) → on ≡ b → (list_place (source shared)).scope (codes "require") ≡ None
      at true e = (is-shared e).require (free (sym (same-sort (first_whole lowered).in_use lowered shared names (m.goes e)) ∙ script))
      at false e = let same = (m.stays e).0 in ap (λ (t : Tree). (list_place (source t)).scope (codes "require")) same ∙ free (sym (ap is_module same) ∙ script)

-- NO CONSTRUCT comes to stand in it, and half as many nodes at most

module _ (on : Bool) (lowered shared : Tree) (names : List Text) (m : SharesKeys on lowered shared names) where
  pub none-shared : (o : EnvOptions) → has_enabled_construct o lowered ≡ false → has_enabled_construct o shared ≡ false
  none-shared o none = at on refl
    where
      at : (b : Bool) → on ≡ b → has_enabled_construct o shared ≡ false
      at true e = law_no_constructs_proof o (first_whole lowered).in_use lowered shared names (m.goes e) none
      at false e = ap (has_enabled_construct o) (m.stays e).0 ∙ none

  pub shared-size : 2 * tree_size shared ≤ (if on then 3 * tree_size lowered + 2 else 2 * tree_size lowered)
  shared-size = at on refl
    where
      at : (b : Bool) → on ≡ b → 2 * tree_size shared ≤ (if b then 3 * tree_size lowered + 2 else 2 * tree_size lowered)
      at true e = law_shared_size_proof (first_whole lowered).in_use lowered shared names (m.goes e)
      at false e = rw (m.stays e).0 (omega arith)
