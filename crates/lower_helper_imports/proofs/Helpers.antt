-- Helpers are compared by their names.
use Rattle.std.proofs.Common.{◌≡◌, ◌∙◌, ◌++◌, ◌∷◌, Bool, List, [], ap, false, inl, inr, length, map, refl, sym, true}
use Rattle.std.specs.Prelude.{◌⊎◌, String, if◌then◌else◌, string_bytes}
use Rattle.std.specs.List.{list_any}
use Rattle.std.proofs.lemmas.Bool.{false_from_ne_true}
use Rattle.std.specs.declared.alloc.Global.{Global}
use denote.Enum.Bare.{sameb, same_false, same_true}
use Rattle.es_tree.specs.Helpers.{helper_text}
use Rattle.es_tree.specs.contracts.helper.Helper.{the_type}
use Rattle.es_tree.specs.declared.helper.Helper.{Helper}
use Rattle.es_tree.proofs.HelperNames.{helper_text-injective}
use Rattle.es_resolution.specs.Declarations.{Bound}
use Rattle.es_resolution.proofs.Basics.{bytes_eq-equal, bytes_eq-self}
use Rattle.es_helper_calls.specs.HelperCalls.{bound_of, is_helper}
use Rattle.es_helper_imports.specs.Imported.{unmarked}

same-by-name : (g h : Helper) (b : Bool) → sameb the_type g h ≡ b → b ≡ is_helper g h
same-by-name g h true e = sym (ap (λ k. is_helper g k) (sym (same_true the_type tt g h e)) ∙ bytes_eq-self (helper_text g))
same-by-name g h false e = sym (false_from_ne_true (is_helper g h) (λ k. same_false the_type g h e (helper_text-injective g h (bytes_eq-equal (helper_text g) (helper_text h) k))))

pub same-helper : (g h : Helper) → sameb the_type g h ≡ is_helper g h
same-helper g h = same-by-name g h (sameb the_type g h) refl

any-by-name : (hs : List Helper) (h : Helper) → list_any (λ g. sameb the_type g h) hs ≡ list_any (λ g. is_helper g h) hs
any-by-name [] h = refl
any-by-name (g ∷ hs) h = rw (same-helper g h, any-by-name hs h) refl

-- a helper more, where it isn't known
pub noted-new : (hs : List Helper) (h : Helper) (b : Bool) → b ≡ list_any (λ g. sameb the_type g h) hs → b ≡ false → hs ++ h ∷ [] ≡ (if list_any (λ g. is_helper g h) hs then hs else hs ++ h ∷ [])
noted-new hs h b e new = ap (λ c. if c then hs else hs ++ h ∷ []) (sym new ∙ e ∙ any-by-name hs h)

pub noted-known : (hs : List Helper) (h : Helper) (b : Bool) → b ≡ list_any (λ g. sameb the_type g h) hs → b ≡ true → hs ≡ (if list_any (λ g. is_helper g h) hs then hs else hs ++ h ∷ [])
noted-known hs h b e known = ap (λ c. if c then hs else hs ++ h ∷ []) (sym known ∙ e ∙ any-by-name hs h)

-- THE NAME of a helper among these: it isn't the first one's, or there is none

pub name-later : (h g : Helper) (hs ks : List Helper) (x : String Global) (xs ys : List (String Global)) → sameb the_type g h ≡ false → ks ≡ g ∷ hs → ys ≡ x ∷ xs → bound_of hs (unmarked (map string_bytes xs)) h ≡ bound_of ks (unmarked (map string_bytes ys)) h
name-later h g hs ks x xs ys other k y = rw (k, y, sym (same-helper g h) ∙ other) refl

no-helper : (hs : List Helper) (bs : List Bound) (h : Helper) → length hs ≡ 0 → [] ≡ (bound_of hs bs h).name
no-helper [] bs h e = refl
no-helper (g ∷ hs) bs h e = absurd (cc e)

no-name : (hs : List Helper) (xs : List (String Global)) (h : Helper) → length xs ≡ 0 → [] ≡ (bound_of hs (unmarked (map string_bytes xs)) h).name
no-name [] xs h e = refl
no-name (g ∷ hs) [] h e = refl
no-name (g ∷ hs) (x ∷ xs) h e = absurd (cc e)

pub name-none : (hs : List Helper) (xs : List (String Global)) (h : Helper) → (length hs ≡ 0) ⊎ (length xs ≡ 0) → [] ≡ (bound_of hs (unmarked (map string_bytes xs)) h).name
name-none hs xs h (inl e) = no-helper hs (unmarked (map string_bytes xs)) h e
name-none hs xs h (inr e) = no-name hs xs h e
