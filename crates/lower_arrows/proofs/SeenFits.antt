-- What is seen of a program has form and fits as the program does: ids and marks mean nothing there.
use Rattle.std.proofs.Common.{◌≡◌, ◌∙◌, ℕ, zero, suc, refl, sym, ap}
use Rattle.std.specs.Prelude.{Bool, ◌&&◌, ◌||◌, not, Option, is_some}
use Rattle.es_tree.specs.Ancestors.{ancestor}
use Rattle.es_tree.specs.Bare.{bare, bare_field, bare_fields, bare_label, bare_trees}
use Rattle.es_tree.specs.Children.{child_at}
use Rattle.es_tree.specs.Constructs.{is_arrow}
use Rattle.es_tree.specs.Walks.{any_in_field, any_in_fields, any_in_trees, any_node}
use Rattle.es_tree.specs.HasForm.{has_form, same_type}
use Rattle.es_tree.specs.Tree.{Tree, node, Label, Fields, done, ◌then◌, Field, missing, one, many, statements, Trees, empty, ◌before◌}
use Rattle.es_tree.specs.Words.{Text}
use Rattle.es_tree.specs.declared.ast_type.AstType.{AstType}
use Rattle.es_tree.specs.declared.ast_type.AstType.TheVariants.{ArrowFunctionExpression, Program, ThisExpression}
use Rattle.es_tree.specs.declared.table.Sort.{Sort}
use Rattle.es_tree.proofs.BareForm.{has_form-bare}
use Rattle.es_semantic.specs.RolesOf.{role_at}
use Rattle.es_semantic.specs.declared.place.Role.{Role}
use Rattle.es_resolution.specs.Seen.{seen, seen_among, seen_by, seen_in, seen_marks}
use Rattle.es_resolution.proofs.Roles.{role-same}
use Rattle.es_arrow_steps.specs.ThisFits.{belongs_in, is_read, reaches_in, this_fits, this_fits_all, this_fits_by, this_fits_in}

module _ (names : ℕ → Text → Option ℕ) where
  mutual
    bare-seen : (t : Tree) → bare (seen names t) ≡ bare t
    bare-seen (node k l fs) = ap (node k (bare_label l)) (bare-seen-in fs)

    bare-seen-in : (fs : Fields) → bare_fields (seen_in names fs) ≡ bare_fields fs
    bare-seen-in done = refl
    bare-seen-in (f then fs) = λ i. bare-seen-by f i then bare-seen-in fs i

    bare-seen-by : (f : Field) → bare_field (seen_by names f) ≡ bare_field f
    bare-seen-by missing = refl
    bare-seen-by (one t) = ap one (bare-seen t)
    bare-seen-by (many ts) = ap many (bare-seen-among ts)
    bare-seen-by (statements ts) = ap statements (bare-seen-among ts)

    bare-seen-among : (ts : Trees) → bare_trees (seen_among names ts) ≡ bare_trees ts
    bare-seen-among empty = refl
    bare-seen-among (t before ts) = λ i. bare-seen t i before bare-seen-among ts i

  pub form-seen : (s : Sort) (t : Tree) → has_form s (seen names t) ≡ has_form s t
  form-seen s t = sym (has_form-bare s (seen names t)) ∙ ap (has_form s) (bare-seen t) ∙ has_form-bare s t

  -- ROLES

  child-seen : (fs : Fields) (i : ℕ) → is_some (child_at i (seen_in names fs)) ≡ is_some (child_at i fs)
  child-seen done i = refl
  child-seen (missing then fs) zero = refl
  child-seen (one t then fs) zero = refl
  child-seen (many ts then fs) zero = refl
  child-seen (statements ts then fs) zero = refl
  child-seen (f then fs) (suc i) = child-seen fs i

  role-label : (r : Role) (k : AstType) (l : Label) (ms : Fields) (fs : Fields) (i : ℕ) → role_at r k (record l { id = 0; marks = seen_marks names k l ms }) fs i ≡ role_at r k l fs i
  role-label r Program l ms fs i = refl
  role-label r _ l ms fs i = refl

  roles-seen : (r : Role) (k : AstType) (l : Label) (fs : Fields) → role_at r k (record l { id = 0; marks = seen_marks names k l fs }) (seen_in names fs) ≡ role_at r k l fs
  roles-seen r k l fs = (λ j i. role-label r k l fs (seen_in names fs) i j) ∙ role-same r k l fs (seen_in names fs) (child-seen fs)

  -- THE `this` OF ARROWS

  mutual
    pub this-seen : (r : Role) (b c : Bool) (t : Tree) → this_fits r b c (seen names t) ≡ this_fits r b c t
    this-seen r b c (node k l fs) =
        let here = not (same_type k ThisExpression && b && not (is_read r && c)) in
        (λ i. here && this_fits_in (roles-seen r k l fs i) (λ j. belongs_in b (ancestor k l done j 0)) (λ j. reaches_in c (ancestor k l done j 0)) (seen_in names fs))
        ∙ ap (λ v. here && v) (this-seen-in (role_at r k l fs) (λ j. belongs_in b (ancestor k l done j 0)) (λ j. reaches_in c (ancestor k l done j 0)) fs)

    this-seen-in : (rs : ℕ → Role) (bs cs : ℕ → Bool) (fs : Fields) → this_fits_in rs bs cs (seen_in names fs) ≡ this_fits_in rs bs cs fs
    this-seen-in rs bs cs done = refl
    this-seen-in rs bs cs (f then fs) = λ i. this-seen-by (rs zero) (bs zero) (cs zero) f i && this-seen-in (λ j. rs (suc j)) (λ j. bs (suc j)) (λ j. cs (suc j)) fs i

    this-seen-by : (r : Role) (b c : Bool) (f : Field) → this_fits_by r b c (seen_by names f) ≡ this_fits_by r b c f
    this-seen-by r b c missing = refl
    this-seen-by r b c (one t) = this-seen r b c t
    this-seen-by r b c (many ts) = this-seen-all r b c ts
    this-seen-by r b c (statements ts) = this-seen-all r b c ts

    this-seen-all : (r : Role) (b c : Bool) (ts : Trees) → this_fits_all r b c (seen_among names ts) ≡ this_fits_all r b c ts
    this-seen-all r b c empty = refl
    this-seen-all r b c (t before ts) = λ i. this-seen r b c t i && this-seen-all r b c ts i

  -- ARROWS

  arrow-seen : (k : AstType) (l m : Label) (fs gs : Fields) → is_arrow k m gs ≡ is_arrow k l fs
  arrow-seen ArrowFunctionExpression l m fs gs = refl
  arrow-seen _ l m fs gs = refl

  mutual
    any-seen : (t : Tree) → any_node is_arrow (seen names t) ≡ any_node is_arrow t
    any-seen (node k l fs) = λ i. arrow-seen k l (record l { id = 0; marks = seen_marks names k l fs }) fs (seen_in names fs) i || any-seen-in fs i

    any-seen-in : (fs : Fields) → any_in_fields is_arrow (seen_in names fs) ≡ any_in_fields is_arrow fs
    any-seen-in done = refl
    any-seen-in (f then fs) = λ i. any-seen-by f i || any-seen-in fs i

    any-seen-by : (f : Field) → any_in_field is_arrow (seen_by names f) ≡ any_in_field is_arrow f
    any-seen-by missing = refl
    any-seen-by (one t) = any-seen t
    any-seen-by (many ts) = any-seen-among ts
    any-seen-by (statements ts) = any-seen-among ts

    pub any-seen-among : (ts : Trees) → any_in_trees is_arrow (seen_among names ts) ≡ any_in_trees is_arrow ts
    any-seen-among empty = refl
    any-seen-among (t before ts) = λ i. any-seen t i || any-seen-among ts i
