-- In a program none of whose symbols is called `babelHelpers` no such name has a symbol.
use Rattle.std.proofs.Common.{◌≡◌, ℕ, zero, suc, refl, subst, sym, List, [], ◌∷◌}
use Rattle.std.proofs.lemmas.Bool.{or_parts}
use Rattle.std.specs.Prelude.{true, false, Option, Some, None, bytes_eq}
use Rattle.es_tree.specs.HasForm.{has_form}
use Rattle.es_tree.specs.StaticRules.{breaks}
use Rattle.es_tree.specs.Tree.{Tree}
use Rattle.es_tree.specs.Walks.{any_node}
use Rattle.es_tree.specs.Words.{Text}
use Rattle.es_tree.specs.declared.table.Sort.TheVariants.{Program as s-Program}
use Rattle.es_semantic.specs.RolesOf.{reads}
use Rattle.es_semantic.specs.SymbolsOf.{Declared, symbols_of}
use Rattle.es_resolution.specs.Called.{name_at}
use Rattle.es_resolution.specs.Laws.{source}
use Rattle.es_resolution.proofs.Basics.{bytes_eq-equal}
use Rattle.es_steps.specs.CoreBridge.{first_whole}
use Rattle.es_steps.specs.Identifiers.{is_called}
use Rattle.es_steps.proofs.Passing.{called-passes, passes-less}
use Rattle.es_steps.proofs.Start.{law_start_proof}
use Rattle.es_steps.proofs.Taken.{at-least}
use Rattle.es_rest_shapes.specs.HelperNames.{binds_helpers}
use Rattle.es_rest_rows.specs.Laws.{is_bound_helper}
use Rattle.es_rest_rows.proofs.HelperNames.{helpers_name, is_other_name, passes-unbound}
use Rattle.es_rest_rows.proofs.HelperSteps.{name-other, word-other}

-- no symbol is called so
symbol-other : (ds : List Declared) → binds_helpers ds ≡ false → (n : ℕ) → bytes_eq (name_at ds n) helpers_name ≡ false
symbol-other [] none n = refl
symbol-other (d ∷ ds) none zero = (or_parts (bytes_eq d.name helpers_name) (binds_helpers ds) none).0
symbol-other (d ∷ ds) none (suc n) = symbol-other ds (or_parts (bytes_eq d.name helpers_name) (binds_helpers ds) none).1 n

-- nor a name that has one
called-other : (ds : List Declared) → binds_helpers ds ≡ false → (x : Text) (s : Option ℕ) → is_called (name_at ds) x s ≡ true → is_other_name x s ≡ true
called-other ds none x None e = word-other x
called-other ds none x (Some n) e = name-other x (Some n) (subst (λ (y : Text). bytes_eq y helpers_name ≡ false) (sym (bytes_eq-equal x (name_at ds n) e)) (symbol-other ds none n))

pub source-unbound : (p : Tree) → has_form s-Program p ≡ true → breaks p ≡ [] → binds_helpers (symbols_of p) ≡ false → any_node is_bound_helper (source p) ≡ false
source-unbound p form right none =
    let w = first_whole p in
    let start = law_start_proof p w form right (λ x e. rw e) (at-least w.free_symbol) (λ s. refl) in
    let called = called-passes w.called w.called w.free_symbol (λ m e. refl) w.in_use reads (source p) start.named start.called start.class_names in
    passes-unbound (source p) (passes-less (is_called w.called) is_other_name (called-other (symbols_of p) none) (source p) called)
