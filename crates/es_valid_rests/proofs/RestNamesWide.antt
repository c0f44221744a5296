-- Lists of declared names to which fresh ones come, by `var`, or one by another word.
use Rattle.std.proofs.Common.{◌≡◌, ◌==◌, ℕ, refl, List, [], ◌∷◌, ◌++◌, map, cond}
use Rattle.std.specs.Prelude.{Bool, true, false}
use Rattle.std.specs.List.{list_any}
use Rattle.es_tree.specs.DeclaredNames.{Name, is_same_name, name}
use Rattle.es_tree.specs.Words.{Text}
use Rattle.es_tree.specs.declared.place.Namespace.TheVariants.{PrivateNames, Scope}
use Rattle.es_valid_names.proofs.Claims.{Distinct, has_private, joined, push}
use Rattle.es_valid_names.proofs.ClearNodes.{push-both}
use Rattle.es_valid_names.proofs.Grown.{Grown, IsNew, no_list, grown-both, grown-self, still-apart}
use Rattle.es_valid_names.proofs.MoreAround.{grown-any}
use Rattle.es_valid_names.proofs.OneMore.{OneMore, more-before, more-behind, one-any, one-apart}
use Rattle.es_valid_names.proofs.OneMore.OneMore.{now, later}
use Rattle.es_valid_rests.proofs.RestNamesFresh.{fresh_names, vars-grown}

pub data Wide (used used' : Text → Bool) (gs hs : List (List Name)) : Type 0 where
  by_vars : Grown used used' gs hs → Wide used used' gs hs
  by_one : (n : Name) → IsNew used used' n → OneMore n gs hs → Wide used used' gs hs

module _ {used used' : Text → Bool} where
  pub wide-self : (gs : List (List Name)) → Wide used used' gs gs
  wide-self gs = by_vars (grown-self gs)

  pub wide-behind : (ks : List (List Name)) {gs hs : List (List Name)} → Wide used used' gs hs → Wide used used' (ks ++ gs) (ks ++ hs)
  wide-behind ks (by_vars h) = by_vars (grown-both (grown-self ks) h)
  wide-behind ks (by_one n e h) = by_one n e (more-behind ks h)

  pub wide-before : (ks : List (List Name)) {gs hs : List (List Name)} → Wide used used' gs hs → Wide used used' (gs ++ ks) (hs ++ ks)
  wide-before ks (by_vars h) = by_vars (grown-both h (grown-self ks))
  wide-before ks (by_one n e h) = by_one n e (more-before ks h)

  pub wide-push : (g : List Name) {gs hs : List (List Name)} → Wide used used' gs hs → Wide used used' (push g gs) (push g hs)
  wide-push g (by_vars h) = by_vars (push-both g h)
  wide-push [] (by_one n e h) = by_one n e h
  wide-push (m ∷ ms) (by_one n e h) = by_one n e (later (m ∷ ms) h)

  pub wide-apart : (more : (x : Text) → used x ≡ true → used' x ≡ true) {gs hs : List (List Name)} → Wide used used' gs hs → Distinct used [] gs → Distinct used' [] hs
  wide-apart more (by_vars h) d = still-apart used used' more h d
  wide-apart more (by_one n e h) d = one-apart used used' n e more h d

  pub wide-any : (p : Name → Bool) {gs hs : List (List Name)} → Wide used used' gs hs → list_any p (joined gs []) ≡ true → list_any p (joined hs []) ≡ true
  wide-any p (by_vars h) e = grown-any p h [] [] (λ d. d) e
  wide-any p (by_one n f h) e = one-any p h [] e

  pub wide-private : {gs hs : List (List Name)} → Wide used used' gs hs → (x : Text) → has_private gs x ≡ true → has_private hs x ≡ true
  wide-private h x e = wide-any (is_same_name PrivateNames 1 x) h e

  -- the names of one declarator
  pub wide-fresh : (v : Bool) (ns : List ℕ) (x : Text) → used x ≡ false → used' x ≡ true → Wide used used' [] (push (fresh_names v ns x) [])
  wide-fresh false ns x e d = by_vars (vars-grown used used' x e d ns)
  wide-fresh true [] x e d = by_vars no_list
  wide-fresh true (n ∷ ns) x e d = at (n == 1)
    where
      at : (b : Bool) → Wide used used' [] (push (map (λ m. name Scope m x true) (cond b (n ∷ []) [])) [])
      at true = by_one (name Scope n x true) (record { space = refl; fresh = e; known = d }) (now [])
      at false = by_vars no_list
