-- The law of `using` at the top of a module: what a step of the rule leads to is a program that breaks no static rule, the same to other modules.
use Rattle.std.proofs.Common.{◌≡◌, List, [], subst, sym}
use Rattle.std.specs.Prelude.{true}
use Rattle.es_tree.specs.HasForm.{has_form}
use Rattle.es_tree.specs.StaticRules.{breaks}
use Rattle.es_tree.specs.Tree.{Tree}
use Rattle.es_tree.specs.Words.{Text}
use Rattle.es_tree.specs.declared.table.Sort.TheVariants.{Program as s-Program}
use Rattle.es_semantic.specs.RolesOf.{reads}
use Rattle.es_resolution.specs.Laws.{source}
use Rattle.es_resolution.specs.Named.{Named}
use Rattle.es_steps.specs.CoreBridge.{first_whole}
use Rattle.es_steps.specs.Steps.{Whole}
use Rattle.es_module_names.proofs.BareNames.{law_outside_bare_proof}
use Rattle.es_reached.proofs.Results.{IsRight, form-same, outside-then, rules-bare, source-form, source-well-bound}
use Rattle.es_reached.proofs.Sources.{law_bare_source_proof}
use Rattle.es_using_modules.specs.Laws.{LawTopped}
use Rattle.es_using_modules.proofs.TopBound.{program_with}
use Rattle.es_using_modules.proofs.TopStatic.{rule-right}
use Rattle.es_using_modules.proofs.TopSteps.{ByRule, reaches}

right-by : (w : Whole) (names : List Text) (t r : Tree) → ByRule w names t r → has_form s-Program t ≡ true → breaks t ≡ [] → Named w.in_use w.free_symbol reads t → IsRight t r
right-by w names t r b form kept used =
    let there = rule-right b.label b.directives b.list b.becomes b.rule (subst (λ (x : Tree). has_form s-Program x ≡ true) b.was form) (subst (λ (x : Tree). breaks x ≡ []) b.was kept) (subst (λ (x : Tree). Named w.in_use w.free_symbol reads x) b.was used) in
    subst (λ (x : Tree). IsRight x r) (sym b.was) (subst (λ (x : Tree). IsRight (program_with b.label b.directives b.list) x) (sym b.now) there)

pub law_topped_proof : LawTopped
law_topped_proof p q names form right uses none to =
    let led = reaches p q names form right uses none to in
    let same = sym (law_bare_source_proof p) in
    let there = right-by (first_whole p) names (source p) led.resolved led.by_rule (source-form p form) (rules-bare p (source p) same right) (source-well-bound p form right).named in
    record {
      resolved = led.resolved;
      written = led.written;
      reached = led.reached;
      bindings = led.bindings;
      form = form-same led.resolved q led.written there.form;
      kept = rules-bare led.resolved q led.written there.kept;
      outside = outside-then (law_outside_bare_proof p (source p) same) (outside-then there.outside (law_outside_bare_proof led.resolved q led.written));
    }
