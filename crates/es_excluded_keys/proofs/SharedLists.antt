-- The lists for which names stand are lists of texts, and have the form of expressions where the program has form: as constants of the program,
-- without ids and marks, they are what its constants may be.
use Rattle.std.proofs.Common.{◌≡◌, ◌∙◌, ℕ, suc, refl, ap, List, [], ◌∷◌, ◌++◌}
use Rattle.std.specs.Prelude.{Bool, true, Some, map}
use Rattle.es_tree.specs.Bare.{bare, bare_fields, bare_label}
use Rattle.es_tree.specs.HasForm.{has_form}
use Rattle.es_tree.specs.Tree.{Tree, node, Label, Fields, done, ◌then◌, Field, one, Trees}
use Rattle.es_tree.specs.Words.{Text}
use Rattle.es_tree.specs.declared.ast_type.AstType.{AstType}
use Rattle.es_tree.specs.declared.ast_type.AstType.TheVariants.{ArrayExpression, StringLiteral}
use Rattle.es_tree.specs.declared.table.Sort.TheVariants.{Expression as s-Expression}
use Rattle.es_tree.proofs.BareForm.{has_form-bare}
use Rattle.es_tree.proofs.NodeForm.{has_form-node}
use Rattle.es_semantic.specs.RolesOf.{reads, role_at}
use Rattle.es_semantic.specs.declared.place.Role.{Role}
use Rattle.es_resolution.specs.Declarations.{Bound}
use Rattle.es_resolution.specs.Named.{Named, NamedIn}
use Rattle.es_resolution.proofs.AllForms.{All, AllAmong, AllBy, AllIn}
use Rattle.es_steps.specs.Steps.{Whole}
use Rattle.es_helper_calls.specs.TextLists.{is_text_list}
use Rattle.es_helper_calls.proofs.CallSteps.{HasForm}
use Rattle.es_helper_calls.proofs.TextLists.{TextList, Texts, list-is}
use Rattle.es_helper_calls.proofs.TextLists.TextList.{text_list}
use Rattle.es_helper_calls.proofs.TextLists.Texts.{no_text, one_text}
use Rattle.es_helper_imports.specs.Imported.{marked_from, unmarked}
use Rattle.es_top_constants.specs.Laws.{AreLists, names_of}
use Rattle.es_top_constants.specs.TopConstants.{constants_of}
use Rattle.es_excluded_keys.specs.ExcludedKeys.{Shares, SharesAll, SharesBy, SharesIn}
use Rattle.es_excluded_keys.specs.ExcludedKeys.Shares.{keeps, shares}
use Rattle.es_excluded_keys.specs.ExcludedKeys.SharesAll.{next, none}
use Rattle.es_excluded_keys.specs.ExcludedKeys.SharesBy.{at_many, at_none, at_one, at_statements}
use Rattle.es_excluded_keys.specs.ExcludedKeys.SharesIn.{ends, goes}
use Rattle.es_excluded_keys.proofs.TakenCalls.{list-bare, taken-parts}

-- as many names as lists, of each of which L holds
abbrev pub Pairs : (Tree → Type 0) → List Bound → List Tree → Type 0
Pairs L [] [] = Unit {0}
Pairs L (x ∷ xs) (t ∷ ts) = L t × Pairs L xs ts
Pairs L xs ts = ⊥

-- where Q is known of each node, and so L of each list
module _ (Q : AstType → Label → Fields → Type 0) (L : Tree → Type 0) (known : (ks : Tree) → is_text_list ks ≡ true → All Q ks → L ks) where
  pairs-both : (xs ys : List Bound) (ls ms : List Tree) → Pairs L xs ls → Pairs L ys ms → Pairs L (xs ++ ys) (ls ++ ms)
  pairs-both [] ys [] ms h k = k
  pairs-both (x ∷ xs) ys (l ∷ ls) ms h k = (h.0, pairs-both xs ys ls ms h.1 k)
  pairs-both [] ys (l ∷ ls) ms h k = absurd h
  pairs-both (x ∷ xs) ys [] ms h k = absurd h

  mutual
    pub lists-known : {deep : Bool} {t u : Tree} {xs : List Bound} {ls : List Tree} → Shares deep t xs ls u → All Q t → Pairs L xs ls
    lists-known (keeps out h) q = lists-in h q.1
    lists-known (shares {l = l} {f = f} {s = s} {ks = ks} {xs = xs} {ls = ls} x out h) q = pairs-both xs (x ∷ []) ls (ks ∷ []) (lists-known h q.1.1.0.0) (known ks ((taken-parts l f s ks out).1) q.1.1.0.1.0, tt)

    lists-in : {deep : ℕ → Bool} {fs gs : Fields} {xs : List Bound} {ls : List Tree} → SharesIn deep fs xs ls gs → AllIn Q fs → Pairs L xs ls
    lists-in ends q = tt
    lists-in (goes {xs = xs} {ys = ys} {ls = ls} {ms = ms} h k) q = pairs-both xs ys ls ms (lists-by h q.0) (lists-in k q.1)

    lists-by : {deep : Bool} {f g : Field} {xs : List Bound} {ls : List Tree} → SharesBy deep f xs ls g → AllBy Q f → Pairs L xs ls
    lists-by at_none q = tt
    lists-by (at_one h) q = lists-known h q
    lists-by (at_many h) q = lists-all h q
    lists-by (at_statements h) q = lists-all h q

    lists-all : {deep : Bool} {ts us : Trees} {xs : List Bound} {ls : List Tree} → SharesAll deep ts xs ls us → AllAmong Q ts → Pairs L xs ls
    lists-all none q = tt
    lists-all (next {xs = xs} {ys = ys} {ls = ls} {ms = ms} h k) q = pairs-both xs ys ls ms (lists-known h q.0) (lists-all k q.1)

-- AS CONSTANTS

pub record IsList (ks : Tree) : Type 0 where
  pub texts : is_text_list ks ≡ true
  pub form : has_form s-Expression ks ≡ true

pub list-formed : (ks : Tree) → is_text_list ks ≡ true → All HasForm ks → IsList ks
list-formed (node ArrayExpression l fs) e q =
    let f = q.0.form in
    record { texts = e; form = has_form-node s-Expression ArrayExpression l fs (record { sort = refl; texts = f.texts; flags = f.flags; start = f.start; stop = f.stop; agree = f.agree; children = f.children }) }
list-formed (node _ l fs) e q = absurd (cc e)

texts-named : (u : Text → Bool) (n : ℕ) (roles : ℕ → Role) (fs : Fields) → Texts fs → NamedIn u n roles (bare_fields fs)
texts-named u n roles ts no_text = tt
texts-named u n roles ts (one_text {fs = fs} k h) = (((tt, tt), tt), texts-named u n (λ i. roles (suc i)) fs h)

list-named : (u : Text → Bool) (n : ℕ) (t : Tree) → TextList t → Named u n reads (bare t)
list-named u n t (text_list l fs h) = ((tt, tt), texts-named u n (role_at reads ArrayExpression (bare_label l) (bare_fields fs)) fs h)

pub are-lists : (w : Whole) (names : List Text) (n : ℕ) (ls : List Tree) → Pairs IsList (unmarked names) ls → AreLists w (constants_of (marked_from n names) (map bare ls))
are-lists w [] n ls h = tt
are-lists w (x ∷ xs) n (l ∷ ls) h = (list-bare l ∙ h.0.texts, has_form-bare s-Expression l ∙ h.0.form, list-named w.in_use w.free_symbol l (list-is l h.0.texts), are-lists w xs (suc n) ls h.1)
are-lists w (x ∷ xs) n [] h = absurd h

pub locals-are : (names : List Text) (n : ℕ) (ls : List Tree) → Pairs IsList (unmarked names) ls → names_of (constants_of (marked_from n names) (map bare ls)) ≡ marked_from n names
locals-are [] n ls h = refl
locals-are (x ∷ xs) n (l ∷ ls) h = ap (λ (bs : List Bound). record { name = x; symbol = Some n } ∷ bs) (locals-are xs (suc n) ls h.1)
locals-are (x ∷ xs) n [] h = absurd h

texts-twice : (fs : Fields) → Texts fs → bare_fields (bare_fields fs) ≡ bare_fields fs
texts-twice ts no_text = refl
texts-twice ts (one_text {fs = fs} k h) = λ i. one (node StringLiteral (bare_label k) done) then texts-twice fs h i

pub list-twice : (t : Tree) → TextList t → bare (bare t) ≡ bare t
list-twice t (text_list l fs h) = λ i. node ArrayExpression (bare_label l) (texts-twice fs h i)
