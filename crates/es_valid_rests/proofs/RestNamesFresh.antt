-- What the declarator of a fresh name declares: by `var` in each scope through which it hoists, by another word in the innermost one.
use Rattle.std.proofs.Common.{◌≡◌, ℕ, refl, ap, ◌∙◌, List, [], ◌∷◌, ◌++◌, filter, map}
use Rattle.std.specs.Prelude.{Bool, true, false, if◌then◌else◌}
use Rattle.std.proofs.lemmas.List.{append-nil}
use Rattle.std.proofs.lemmas.List.Elements.{filter-append}
use Rattle.es_tree.specs.Ancestors.{Ancestor, scopes}
use Rattle.es_tree.specs.CoreStaticRules.{is_lexical}
use Rattle.es_tree.specs.DeclaredNames.{Name, exports_of, lexical_names, name, var_names}
use Rattle.es_tree.specs.Names.{first_text}
use Rattle.es_tree.specs.Tree.{Label, Fields}
use Rattle.es_tree.specs.Words.{Text}
use Rattle.es_tree.specs.declared.place.Namespace.TheVariants.{Scope}
use Rattle.es_resolution.specs.Declarations.{Bound}
use Rattle.es_steps.specs.Nodes.{identifier}
use Rattle.es_valid_names.proofs.Claims.{claims, is_owned, push}
use Rattle.es_valid_names.proofs.Grown.{AllNew, AllWeak, Grown, no_list, new_list}
use Rattle.es_valid_names.proofs.Mute.{free-exports, free-filter}
use Rattle.es_valid_rests.proofs.RestNamesAround.{declaring, first-owned, innermost, looked_at, vars-owned}

-- the names, by the numbers of the scopes around
abbrev pub fresh_names : Bool → List ℕ → Text → List Name
fresh_names true ns x = map (λ n. name Scope n x true) (innermost ns)
fresh_names false ns x = map (λ n. name Scope n x false) (looked_at ns)

named-by : (v : Bool) (up : List Ancestor) (x : Text) → filter is_owned (if v then lexical_names up x else var_names up x) ≡ fresh_names v (scopes up) x
named-by true up x = first-owned (scopes up) x true
named-by false up x = vars-owned (scopes up) x

pub fresh-claims : (l m : Label) (fs ds : Fields) (up : List Ancestor) (b : Bound) → claims is_owned (declaring l fs m ds up) (identifier b) ≡ push (fresh_names (is_lexical (first_text m.texts)) (scopes up) b.name) []
fresh-claims l m fs ds up b =
    let x = b.name in
    let word = is_lexical (first_text m.texts) in
    let names = if word then lexical_names up x else var_names up x in
    let owned : filter is_owned ((names ++ exports_of up x) ++ []) ≡ fresh_names word (scopes up) x =
    ap (λ ns. filter is_owned ns) (append-nil (names ++ exports_of up x)) ∙ filter-append is_owned names (exports_of up x) ∙ (λ i. filter is_owned names ++ free-filter (exports_of up x) (free-exports up x) i) ∙ append-nil (filter is_owned names) ∙ named-by word up x in
    λ i. push (owned i) []

-- BY `var` only names come that may be declared twice

module _ (used used' : Text → Bool) (x : Text) (free : used x ≡ false) (known : used' x ≡ true) where
  vars-new : (ns : List ℕ) → AllNew used used' (map (λ n. name Scope n x false) ns)
  vars-new [] = tt
  vars-new (n ∷ ns) = (record { space = refl; fresh = free; known = known }, vars-new ns)

  vars-weak : (ns : List ℕ) → AllWeak (map (λ n. name Scope n x false) ns)
  vars-weak [] = tt
  vars-weak (n ∷ ns) = (refl, vars-weak ns)

  grown-list : (g : List Name) → AllNew used used' g → AllWeak g → Grown used used' [] (push g [])
  grown-list [] h k = no_list
  grown-list (n ∷ ns) h k = new_list (n ∷ ns) h k no_list

  pub vars-grown : (ns : List ℕ) → Grown used used' [] (push (fresh_names false ns x) [])
  vars-grown ns = grown-list (fresh_names false ns x) (vars-new (looked_at ns)) (vars-weak (looked_at ns))
