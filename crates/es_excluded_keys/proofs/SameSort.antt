-- A program in which names stand for lists of excluded keys is a module where it was one before.
use Rattle.std.proofs.Common.{◌≡◌, ◌∙◌, List, [], ◌∷◌, ap, refl, sym}
use Rattle.std.specs.Prelude.{Bool, bytes_eq, codes}
use Rattle.es_tree.specs.Bare.{bare}
use Rattle.es_tree.specs.Names.{first_text}
use Rattle.es_tree.specs.Tree.{Tree, node, Label, ◌then◌, statements, Trees, label_of}
use Rattle.es_tree.specs.Words.{Text}
use Rattle.es_resolution.specs.Declarations.{Bound}
use Rattle.es_helper_calls.specs.Importing.{is_module}
use Rattle.es_helper_imports.specs.Imported.{unmarked}
use Rattle.es_top_imports.specs.TopImports.{with_top}
use Rattle.es_top_constants.specs.TopConstants.{Constant, constants_of, with_constants}
use Rattle.es_excluded_keys.specs.ExcludedKeys.{Shares, SharesTo}
use Rattle.es_excluded_keys.specs.ExcludedKeys.Shares.{keeps, shares}

module-bare : (t : Tree) → is_module (bare t) ≡ is_module t
module-bare (node k l fs) = refl

top-label : (news : Trees) (t : Tree) → label_of (with_top news t) ≡ label_of t
top-label news (node k l (f then (statements ts then fs))) = refl
top-label news (node k l _) = refl

constants-label : (cs : List Constant) (t : Tree) → label_of (with_constants cs t) ≡ label_of t
constants-label [] t = refl
constants-label (c ∷ cs) t = top-label _ t

shared-label : {deep : Bool} {t u : Tree} {xs : List Bound} {ls : List Tree} → Shares deep t xs ls u → label_of u ≡ label_of t
shared-label (keeps stays s) = refl
shared-label (shares x here s) = refl

pub same-sort : (in_use : Text → Bool) (p q : Tree) (names : List Text) → SharesTo in_use p q names → is_module q ≡ is_module p
same-sort in_use p q names h =
    sym (module-bare q) ∙ ap is_module h.written ∙ module-bare (with_constants (constants_of (unmarked names) h.lists) h.shared)
    ∙ ap (λ (l : Label). bytes_eq (first_text l.texts) (codes "module")) (constants-label (constants_of (unmarked names) h.lists) h.shared ∙ shared-label h.shares)
