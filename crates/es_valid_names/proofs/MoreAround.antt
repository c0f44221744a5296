-- What keeps the rules keeps them where more names are in use, and more are declared around.
use Rattle.std.proofs.Common.{◌≡◌, ℕ, suc, refl, subst, List, [], ◌∷◌, ◌++◌}
use Rattle.std.specs.Prelude.{Bool, true, false, not, ◌&&◌, ◌||◌}
use Rattle.std.specs.List.{list_any}
use Rattle.es_tree.specs.DeclaredNames.{Name, is_same_name}
use Rattle.es_tree.specs.HasForm.{same_type}
use Rattle.es_tree.specs.Names.{first_text}
use Rattle.es_tree.specs.Tree.{Tree, node, Label, Fields, done, ◌then◌, Field, missing, one, many, statements, Trees, empty, ◌before◌}
use Rattle.es_tree.specs.Words.{Text}
use Rattle.es_tree.specs.declared.ast_type.AstType.{AstType}
use Rattle.es_tree.specs.declared.ast_type.AstType.TheVariants.{ExportSpecifier, Identifier, PrivateIdentifier}
use Rattle.es_tree.specs.declared.place.Namespace.TheVariants.{PrivateNames}
use Rattle.es_valid_names.proofs.Claims.{Around, Clear, ClearAll, ClearBy, ClearIn, OwnClear, Stand, around_in, has_private, in_body, is_key, is_local, is_owner, is_plain, is_wrong, joined, owned, stand_in}
use Rattle.es_valid_names.proofs.Grown.{Grown, no_list, same_list, new_list, still-distinct}

-- what passes a test still stands among grown lists

or-first : (a b c : Bool) → (b ≡ true → c ≡ true) → (a || b) ≡ true → (a || c) ≡ true
or-first true b c h e = refl
or-first false b c h e = h e

pub or-self : (a b : Bool) → a ≡ true → (a || b) ≡ true
or-self true b e = refl
or-self false b e = absurd (cc e)

pub or-last : (a b : Bool) → b ≡ true → (a || b) ≡ true
or-last true b e = refl
or-last false b e = e

module _ (p : Name → Bool) where
  pub any-after : (g ns ms : List Name) → (list_any p ns ≡ true → list_any p ms ≡ true) → list_any p (g ++ ns) ≡ true → list_any p (g ++ ms) ≡ true
  any-after [] ns ms h e = h e
  any-after (n ∷ g) ns ms h e = or-first (p n) (list_any p (g ++ ns)) (list_any p (g ++ ms)) (any-after g ns ms h) e

  pub any-more : (g ns : List Name) → list_any p ns ≡ true → list_any p (g ++ ns) ≡ true
  any-more [] ns e = e
  any-more (n ∷ g) ns e = or-last (p n) (list_any p (g ++ ns)) (any-more g ns e)

  pub grown-any : {used used' : Text → Bool} {gs hs : List (List Name)} → Grown used used' gs hs → (ns ms : List Name) → (list_any p ns ≡ true → list_any p ms ≡ true) → list_any p (joined gs ns) ≡ true → list_any p (joined hs ms) ≡ true
  grown-any no_list ns ms h e = h e
  grown-any (same_list g r) ns ms h e = grown-any r (g ++ ns) (g ++ ms) (any-after g ns ms h) e
  grown-any (new_list g a w r) ns ms h e = grown-any r ns (g ++ ms) (λ d. any-more g ms (h d)) e

pub private-grown : {used used' : Text → Bool} {gs hs : List (List Name)} → Grown used used' gs hs → (x : Text) → has_private gs x ≡ true → has_private hs x ≡ true
private-grown r x = grown-any (is_same_name PrivateNames 1 x) r [] [] (λ e. e)

-- AROUND

pub record Allows (c d : Around) : Type 0 where
  pub used : (x : Text) → c.used x ≡ true → d.used x ≡ true
  pub privates : (x : Text) → c.privates x ≡ true → d.privates x ≡ true
  pub top : (x : Text) → c.top x ≡ true → d.top x ≡ true

either-more : (a b c d : Bool) → (a ≡ true → c ≡ true) → (b ≡ true → d ≡ true) → (a || b) ≡ true → (c || d) ≡ true
either-more true b c d f g e = λ i. f refl i || d
either-more false b c d f g e = or-last c d (g e)

pub allows-in : (c d : Around) (b : Bool) (gs hs : List (List Name)) → Allows c d → ((x : Text) → has_private gs x ≡ true → has_private hs x ≡ true) → Allows (around_in c b gs) (around_in d b hs)
allows-in c d true gs hs h f = record { used = h.used; privates = λ x. either-more (c.privates x) (has_private gs x) (d.privates x) (has_private hs x) (h.privates x) (f x); top = h.top }
allows-in c d false gs hs h f = h

less : (a b c d : Bool) → (c ≡ true → d ≡ true) → (a && (b || not c)) ≡ false → (a && (b || not d)) ≡ false
less true true c d f e = absurd (cc e)
less true false true d f e = λ i. not (f refl i)
less true false false d f e = absurd (cc e)
less false b c d f e = refl

less-local : (a c d : Bool) → (c ≡ true → d ≡ true) → (a && not c) ≡ false → (a && not d) ≡ false
less-local true true d f e = λ i. not (f refl i)
less-local true false d f e = absurd (cc e)
less-local false c d f e = refl

pub wrong-less : (c d : Around) → Allows c d → (s : Stand) (k : AstType) (l : Label) (fs : Fields) → is_wrong c s k l fs ≡ false → is_wrong d s k l fs ≡ false
wrong-less c d h s PrivateIdentifier l fs e = less (not (is_key s)) (is_plain s) (c.privates (first_text l.texts)) (d.privates (first_text l.texts)) (h.privates (first_text l.texts)) e
wrong-less c d h s Identifier l fs e = less-local (is_local s) (c.top (first_text l.texts)) (d.top (first_text l.texts)) (h.top (first_text l.texts)) e
wrong-less c d h s _ l fs e = e

own-more : (c d : Around) → Allows c d → (b : Bool) (gs : List (List Name)) → OwnClear c.used b gs → OwnClear d.used b gs
own-more c d h true gs o = still-distinct c.used d.used h.used [] gs o
own-more c d h false gs o = tt

-- TREES

mutual
  pub clear-more : (c d : Around) → Allows c d → (s : Stand) (t : Tree) → Clear c s t → Clear d s t
  clear-more c d h s (node k l fs) e = (own-more c d h (is_owner k) (owned s k l fs) e.0, wrong-less c d h s k l fs e.1, clear-more-in c d h (owned s k l fs) (owned s k l fs) (λ x p. p) s k fs 0 fs e.2)

  pub clear-more-in : (c d : Around) → Allows c d → (gs hs : List (List Name)) → ((x : Text) → has_private gs x ≡ true → has_private hs x ≡ true) → (s : Stand) (k : AstType) (all : Fields) (i : ℕ) (fs : Fields) → ClearIn c gs s k all i fs → ClearIn d hs s k all i fs
  clear-more-in c d h gs hs p s k all i done e = tt
  clear-more-in c d h gs hs p s k all i (f then fs) e = (clear-more-by (around_in c (in_body k i) gs) (around_in d (in_body k i) hs) (allows-in c d (in_body k i) gs hs h p) (stand_in s k all i) f e.0, clear-more-in c d h gs hs p s k all (suc i) fs e.1)

  pub clear-more-by : (c d : Around) → Allows c d → (s : Stand) (f : Field) → ClearBy c s f → ClearBy d s f
  clear-more-by c d h s missing e = tt
  clear-more-by c d h s (one t) e = clear-more c d h s t e
  clear-more-by c d h s (many ts) e = clear-more-all c d h s ts e
  clear-more-by c d h s (statements ts) e = clear-more-all c d h s ts e

  pub clear-more-all : (c d : Around) → Allows c d → (s : Stand) (ts : Trees) → ClearAll c s ts → ClearAll d s ts
  clear-more-all c d h s empty e = tt
  clear-more-all c d h s (t before ts) e = (clear-more c d h s t e.0, clear-more-all c d h s ts e.1)

-- another place, where nothing in the fields is asked where the node stands
pub moved-where : (c : Around) (gs : List (List Name)) (st st' : Stand) (k : AstType) (all : Fields) (i : ℕ) (fs : Fields) → ((i : ℕ) → stand_in st k all i ≡ stand_in st' k all i) → ClearIn c gs st k all i fs → ClearIn c gs st' k all i fs
moved-where c gs st st' k all i done e h = tt
moved-where c gs st st' k all i (f then fs) e h = (subst (λ (s : Stand). ClearBy (around_in c (in_body k i) gs) s f) (e i) h.0, moved-where c gs st st' k all (suc i) fs e h.1)

stand-same : (st st' : Stand) (k : AstType) → same_type k ExportSpecifier ≡ false → (all : Fields) (i : ℕ) → stand_in st k all i ≡ stand_in st' k all i
stand-same st st' ExportSpecifier e all i = absurd (cc e)
stand-same st st' _ e all i = refl

pub moved-in : (c : Around) (gs : List (List Name)) (st st' : Stand) (k : AstType) (all : Fields) (i : ℕ) (fs : Fields) → same_type k ExportSpecifier ≡ false → ClearIn c gs st k all i fs → ClearIn c gs st' k all i fs
moved-in c gs st st' k all i fs e h = moved-where c gs st st' k all i fs (stand-same st st' k e all) h
