-- What steps of rules lead to, of which it is known what they keep.
use Rattle.std.proofs.Common.{◌≡◌, List, [], subst, sym}
use Rattle.std.specs.Prelude.{true}
use Rattle.es_tree.specs.Bare.{bare}
use Rattle.es_tree.specs.HasForm.{has_form}
use Rattle.es_tree.specs.StaticRules.{breaks}
use Rattle.es_tree.specs.Tree.{Tree}
use Rattle.es_tree.specs.Words.{Text}
use Rattle.es_tree.specs.declared.table.Sort.TheVariants.{Program as s-Program}
use Rattle.es_resolution.specs.Laws.{source}
use Rattle.es_steps.specs.CoreBridge.{first_whole, names_among}
use Rattle.es_steps.specs.FormLaws.{StepsKeepForm}
use Rattle.es_steps.specs.Laws.{BindingsKeep, nothing_beside}
use Rattle.es_steps.specs.Open.{opened}
use Rattle.es_steps.specs.Steps.{Ledger, Site, Spot, Step, Steps, Whole, the_program}
use Rattle.es_steps.proofs.BridgeInclusion.{all_under}
use Rattle.es_steps.proofs.Opened.{finished-opened}
use Rattle.es_module_names.specs.Laws.{SameOutside, StepsKeepOutside}
use Rattle.es_module_names.proofs.BareNames.{law_outside_bare_proof}
use Rattle.es_reached.specs.Reached.{IsResultOf}
use Rattle.es_reached.proofs.Results.{form-same, outside-then, program-kind, rules-bare, source-form, source-well-bound}
use Rattle.es_reached.proofs.Sources.{law_bare_source_proof}
use Rattle.es_valid_names.specs.Laws.{StepsKeepRules}

-- rules R, whose steps keep bindings, are among rules K, whose steps keep what a program is
module _ (R K : Site → Ledger → Spot → Ledger → Spot → Type 0) (among : (n : Site) (s : Ledger) (x : Spot) (s' : Ledger) (y : Spot) → R n s x s' y → K n s x s' y)
    (keep-bindings : BindingsKeep R) (keep-form : StepsKeepForm K) (keep-rules : StepsKeepRules K) (keep-outside : StepsKeepOutside K) where
  pub result-by : (p q r : Tree) (names : List Text) (w : Whole) → has_form s-Program p ≡ true → breaks p ≡ [] →
      Steps (Step R the_program) (nothing_beside (first_whole p)) (opened (source p)) (nothing_beside w) (opened r) → names_among w.made ≡ names → bare r ≡ bare q → IsResultOf R p q names
  result-by p q r names w form right steps made written =
      let first = first_whole p in
      let same = sym (law_bare_source_proof p) in
      let there = source-form p form in
      let bound = source-well-bound p form right in
      let rules = all_under R K among steps in
      let form-there : has_form s-Program r ≡ true = subst (λ (x : Tree). has_form s-Program x ≡ true) (finished-opened r) (keep-form (source p) first w (opened r) there rules) in
      let kept-there : breaks r ≡ [] = subst (λ (x : Tree). breaks x ≡ []) (finished-opened r) (keep-rules (source p) first w (opened r) there (rules-bare p (source p) same right) bound rules) in
      let outside-there = subst (λ (x : Tree). SameOutside (source p) x) (finished-opened r) (keep-outside (source p) first w (opened r) there rules) in
      record {
        resolved = r;
        written = written;
        reached = record { whole = w; steps = steps; made = made };
        bindings = keep-bindings (source p) r first w (program-kind (source p) there) bound steps;
        form = form-same r q written form-there;
        kept = rules-bare r q written kept-there;
        outside = outside-then (law_outside_bare_proof p (source p) same) (outside-then outside-there (law_outside_bare_proof r q written));
      }
