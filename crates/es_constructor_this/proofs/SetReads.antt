-- A name for `this` that is set behind `super(..)`: other modules see the same.
use Rattle.std.proofs.Common.{◌≡◌, refl}
use Rattle.std.specs.Prelude.{false}
use Rattle.es_tree.specs.HasForm.{same_type}
use Rattle.es_tree.specs.Tree.{Tree, kind_of}
use Rattle.es_tree.specs.declared.ast_type.AstType.TheVariants.{Program}
use Rattle.es_steps.specs.Steps.{Ledger, Site}
use Rattle.es_steps.specs.Steps.Spot.{at_node}
use Rattle.es_valid_rests.proofs.FacedSteps.{SameBeside}
use Rattle.es_valid_rests.proofs.RestReads.{ReadLawful, SameRead}
use Rattle.es_constructor_this.specs.SetRows.{SetRow}
use Rattle.es_constructor_this.specs.SetRows.SetRow.{sets, settles}
use Rattle.es_constructor_this.proofs.SetShapes.{set-only}

pub set-read : ReadLawful SetRow
set-read = record { at_nodes = set-only; leaves = leaves; beside = beside; within = within }
  where
    leaves : (n : Site) (s s' : Ledger) (t u : Tree) → SetRow n s (at_node t) s' (at_node u) → SameRead n.above t u
    leaves n s s' t u (settles b l ds d ts us here first h) = record { kind = refl; label = refl; bound = refl; declarator = refl; declared = λ e. refl; specifier = refl; request = refl; star = refl; exported = refl }
    leaves n s s' t u (sets b l ds d ts us here apart first h) = record { kind = refl; label = refl; bound = refl; declarator = refl; declared = λ e. refl; specifier = refl; request = refl; star = refl; exported = refl }

    beside : (n : Site) (s s' : Ledger) (t u : Tree) → SetRow n s (at_node t) s' (at_node u) → SameBeside s s'
    beside n s s' t u (settles b l ds d ts us here first h) = record { pending = refl; this = refl; top = refl }
    beside n s s' t u (sets b l ds d ts us here apart first h) = record { pending = refl; this = refl; top = refl }

    within : (n : Site) (s s' : Ledger) (t u : Tree) → SetRow n s (at_node t) s' (at_node u) → same_type (kind_of t) Program ≡ false
    within n s s' t u (settles b l ds d ts us here first h) = refl
    within n s s' t u (sets b l ds d ts us here apart first h) = refl
