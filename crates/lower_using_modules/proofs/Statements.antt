-- What a statement leaves outside and becomes inside, by what it exports and whether it is a class.
use Rattle.std.proofs.Common.{◌≡◌, ◌∙◌, Bor, ap, refl, sym, ℕ}
use Rattle.std.specs.Prelude.{Bool, None, Option, Some, is_some, option_copied, true}
use Rattle.es_tree.specs.Children.{child_at}
use Rattle.es_tree.specs.Tree.{Tree, node, ◌then◌, missing, one, Trees, empty, ◌before◌, fields_of, label_of}
use Rattle.es_tree.specs.Words.{Text}
use Rattle.es_tree.specs.declared.ast_type.AstType.TheVariants.{ClassDeclaration, ExportDefaultDeclaration, ExportNamedDeclaration}
use Rattle.es_export_splits.specs.Splits.{plainly, specifiers}
use Rattle.es_using_modules.specs.ModuleTops.{declared_inside, default_inside, default_local, left_outside, moved_inside, names_declared}
use Rattle.lower_export_splits.specs.Parts.{export_with}
use Rattle.lower_using.specs.Parts.{of_id, variable_with}
use Rattle.lower_using_modules.specs.Parts.{class_name, class_value, default_export_with, default_of, making, named_of}

-- a node that was found by a reference
pub found : (r : Option (Bor Tree)) (b : Bool) {o : Option Tree} → option_copied r ≡ o → b ≡ is_some r → b ≡ true → is_some o ≡ true
found (Some x) b is same h = ap is_some (sym is)
found None b is same h = absurd (cc (h, same))

-- OF THE STATEMENT that something is made for nothing but its id is asked

local-at : (x c : Text) (t e : Tree) → default_local (making x c) t e ≡ default_local (making x c) (of_id (label_of t).id) e
local-at x c t (node ClassDeclaration l (one d then fs)) = refl
local-at x c t _ = refl

inside-at : (x c : Text) (t e : Tree) → default_inside (making x c) t e ≡ default_inside (making x c) (of_id (label_of t).id) e
inside-at x c t (node ClassDeclaration l (one d then fs)) = refl
inside-at x c t (node ClassDeclaration l (missing then fs)) = refl
inside-at x c t _ = refl

-- OUTSIDE: the export of this declaration, or of this as default

abbrev pub left_by : Text → Text → ℕ → Option Tree → Option Tree → Trees
left_by x c i (Some d) e = export_with i (specifiers plainly (names_declared d)) before empty
left_by x c i None (Some e) = default_export_with i (default_local (making x c) (of_id i) e) before empty
left_by x c i None None = empty

pub left-by : (x c : Text) (t : Tree) → left_outside (making x c) t empty ≡ left_by x c (label_of t).id (named_of t) (default_of t)
left-by x c (node ExportNamedDeclaration l (one d then fs)) = refl
left-by x c (node ExportDefaultDeclaration l (one d then fs)) = ap (λ y. default_export_with l.id y before empty) (local-at x c (node ExportDefaultDeclaration l (one d then fs)) d)
left-by x c _ = refl

-- INSIDE: a value as a variable, and so a class

pub value-by : (x c : Text) (i : ℕ) (e y : Tree) → y ≡ default_local (making x c) (of_id i) e → variable_with (label_of y).id y (class_value e) ≡ default_inside (making x c) (of_id i) e
value-by x c i e y is = ap (λ z. variable_with (label_of z).id z (class_value e)) is ∙ of-local e
  where
    of-local : (e : Tree) → variable_with (label_of (default_local (making x c) (of_id i) e)).id (default_local (making x c) (of_id i) e) (class_value e) ≡ default_inside (making x c) (of_id i) e
    of-local (node ClassDeclaration l (one d then fs)) = refl
    of-local (node ClassDeclaration l (missing then fs)) = refl
    of-local _ = refl

pub class-by : (x c : Text) (i : ℕ) (t : Tree) → is_some (class_name t) ≡ true → default_inside (making x c) (of_id i) t ≡ declared_inside (making x c) t
class-by x c i (node ClassDeclaration l (one d then fs)) h = refl
class-by x c i _ h = absurd (cc h)

-- what is exported as default

some-same : (d e : Tree) → Some d ≡ Some e → d ≡ e
some-same d e h = ap (λ o. or-first o) h
  where
    or-first : Option Tree → Tree
    or-first (Some y) = y
    or-first None = d

pub default-by : (x c : Text) (t d : Tree) → is_some (default_of t) ≡ true → child_at 0 (fields_of t) ≡ Some d → default_inside (making x c) (of_id (label_of t).id) d ≡ moved_inside (making x c) t
default-by x c (node ExportDefaultDeclaration l (one e then fs)) d h is =
    sym (ap (λ y. default_inside (making x c) (node ExportDefaultDeclaration l (one e then fs)) y) (some-same e d is) ∙ (inside-at x c (node ExportDefaultDeclaration l (one e then fs)) d))
default-by x c _ d h is = absurd (cc h)
