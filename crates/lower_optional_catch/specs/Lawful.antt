-- The laws of the lowering of optional catch bindings.
use Rattle.std.proofs.Common.{◌≡◌, ◌&&◌, Bool, refl, inr}
use Rattle.std.specs.Prelude.{true, false}
use Rattle.es_tree.specs.Constructs.{is_optional_catch}
use Rattle.es_tree.specs.Tree.{Tree, Label, Fields}
use Rattle.es_tree.specs.declared.ast_type.AstType.{AstType}
use Rattle.es_tree.specs.declared.ast_type.AstType.TheVariants.{CatchClause as k-CatchClause}
use Rattle.es_tree.specs.declared.options.EnvOptions.{EnvOptions}
use Rattle.es_steps.specs.Steps.{Ledger, Site, Spot}
use Rattle.es_visit.specs.Hooks.{IsHooked}
use Rattle.es_visit.specs.declared.hook.Hook.{Hook}
use Rattle.es_visit.specs.declared.hook.Hook.TheVariants.{CatchClause}
use Rattle.es_traverse.specs.Laws.{IsLawful, IsStable, OnlyAt, is_construct, acts_inward}
use Rattle.es_row_laws.proofs.Lawful.{optional-catch-lawful}
use Rattle.es_row_laws.proofs.Stable.{law_stable_rows_proof}
use Rattle.lower_optional_catch.specs.Profile.{IsWholeCatch, optional_catch_constructs, optional_catch_profile}

catch_hooked : (on : Bool) (k : AstType) (l : Label) (fs : Fields) → optional_catch_constructs on CatchClause k l fs ≡ true → IsHooked CatchClause k
catch_hooked true k-CatchClause l fs e = inr refl
catch_hooked true _ l fs e = absurd (cc e)
catch_hooked false k l fs e = absurd (cc e)

catch_placed : (on : Bool) (h : Hook) (k : AstType) (l : Label) (fs : Fields) → optional_catch_constructs on h k l fs ≡ true → IsHooked h k
catch_placed on CatchClause k l fs e = catch_hooked on k l fs e
catch_placed on _ k l fs e = absurd (cc e)

-- steps that make no node an optional catch make none one that is to be lowered
pub catch_stable : (R : Site → Ledger → Spot → Ledger → Spot → Type 0) → IsStable R is_optional_catch → (on : Bool) (h : Hook) → IsStable R (optional_catch_constructs on h)
catch_stable R stable true CatchClause = stable
catch_stable R stable false CatchClause = λ n s s' k l first fs gs stand r e. refl
catch_stable R stable on _ = λ n s s' k l first fs gs stand r e. refl

where_none : (on b : Bool) → b ≡ false → (on && b) ≡ false
where_none true b e = e
where_none false b e = refl

catch_own : (on : Bool) (h : Hook) (t : Tree) → IsWholeCatch t → is_construct (optional_catch_constructs on h) t ≡ false
catch_own on CatchClause t w = where_none on (is_construct is_optional_catch t) w.whole
catch_own on _ t w = refl

pub optional_catch_lawful : (o : EnvOptions) → IsLawful (optional_catch_profile o)
optional_catch_lawful o = record {
  rule = optional-catch-lawful o;
  stable = catch_stable (optional_catch_profile o).rule (law_stable_rows_proof o).optional_catch.optional_catch o.es2019.optional_catch_binding;
  placed = catch_placed o.es2019.optional_catch_binding;
  own = catch_own o.es2019.optional_catch_binding;
  outward = acts_inward (optional_catch_profile o) (λ k l fs. refl) (λ n t. refl);
}

pub optional_catch_only : (o : EnvOptions) → OnlyAt CatchClause (optional_catch_profile o)
optional_catch_only o CatchClause e k l fs = absurd (e refl)
optional_catch_only o _ e k l fs = refl
