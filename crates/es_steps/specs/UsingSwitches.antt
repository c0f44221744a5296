-- `using` in the cases of a `switch` (Explicit Resource Management, 14.12): `switch (a) { case 1: using b = c; f(b); }` becomes
-- `try { var _usingCtx = babelHelpers.usingCtx(); switch (a) { case 1: const b = _usingCtx.u(c); f(b); } } catch (_) { _usingCtx.e = _; } finally { _usingCtx.d(); }`.
use Rattle.std.specs.Prelude.{◌≡◌, ◌||◌, Bool, true, false, [], Option}
use Rattle.es_resolution.specs.Declarations.{Bound, declared_by}
use Rattle.es_semantic.specs.RolesOf.{reads}
use Rattle.es_steps.specs.Open.{Pending, Additions}
use Rattle.es_steps.specs.Rules.{next_name}
use Rattle.es_steps.specs.Steps.{Whole, Ledger, ledger, Site, Spot, at_node}
use Rattle.es_steps.specs.UsingBlocks.{Constants, TakesContext, error_of, has_using, protected, with_context}
use Rattle.es_tree.specs.Tree.{Tree, node, Label, Fields, done, ◌then◌, Field, many, statements, Trees, empty, ◌before◌}
use Rattle.es_tree.specs.Words.{Text}
use Rattle.es_tree.specs.declared.ast_type.AstType.TheVariants.{SwitchCase, SwitchStatement}

abbrev pub case_has_using : Tree → Bool
case_has_using (node SwitchCase l (f then statements ts then done)) = has_using ts
case_has_using t = false

abbrev pub some_case_has_using : Trees → Bool
some_case_has_using empty = false
some_case_has_using (t before ts) = case_has_using t || some_case_has_using ts

-- the cases, where each `using` becomes a constant
pub data ConstantsInCases (c : Bound) : Trees → Trees → Type 0 where
  no_case : ConstantsInCases c empty empty
  in_case : {l : Label} {f : Field} {ts us cs ds : Trees} → Constants c ts us → ConstantsInCases c cs ds →
      ConstantsInCases c (node SwitchCase l (f then statements ts then done) before cs) (node SwitchCase l (f then statements us then done) before ds)

abbrev pub switch_fields : Field → Trees → Fields
switch_fields d cs = d then many cs then done

-- what is tested declares nothing around it, as an expression
pub data SwitchUsing : Site → Ledger → Spot → Ledger → Spot → Type 0 where
  of_switch : {n : Site} {w : Whole} {q : Pending} {y : Option Bound} {a : Additions} {m : Label} {d : Field} {cs ds : Trees} {c : Text} → some_case_has_using cs ≡ true → declared_by false reads d ≡ [] → TakesContext w c n.names → ConstantsInCases (next_name w c) cs ds →
      SwitchUsing n (ledger w q y a) (at_node (node SwitchStatement m (switch_fields d cs))) (ledger (with_context c w) q y a) (at_node (protected (next_name w c) (error_of w) (node SwitchStatement m (switch_fields d ds) before empty)))
