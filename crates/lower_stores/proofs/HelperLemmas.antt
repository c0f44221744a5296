-- A helper more, and helpers that are none of the loaded ones.
use Rattle.std.proofs.Common.{◌≡◌, ◌≢◌, ℕ, ◌+◌, ◌<◌, refl, sym, ap, subst, List, [], ◌∷◌, ◌++◌, ◌∙◌, length, take, get_or}
use Rattle.std.proofs.lemmas.List.{take_more}
use Rattle.es_scope.specs.declared.context_names.BoundIdentifier.{BoundIdentifier}
use Rattle.es_tree.specs.declared.helper.Helper.{Helper}
use Rattle.lower_stores.specs.LoadedHelpers.{IsEachOnce, IsNotLoaded, LocalName}
use Rattle.lower_stores.specs.PlainHelpers.{plain_loaded, plain_name}

plain_more : (es : List (Helper × BoundIdentifier)) (e : Helper × BoundIdentifier) → plain_loaded (es ++ e ∷ []) ≡ plain_loaded es ++ (e.0, plain_name e.1) ∷ []
plain_more [] e = refl
plain_more (x ∷ es) e = ap (λ l. (x.0, plain_name x.1) ∷ l) (plain_more es e)

not_loaded_more : (helper : Helper) (es : List (Helper × LocalName)) (e : Helper × LocalName) → IsNotLoaded helper es → e.0 ≢ helper → IsNotLoaded helper (es ++ e ∷ [])
not_loaded_more helper [] e h n = (n, tt)
not_loaded_more helper (x ∷ es) e h n = (h.0, not_loaded_more helper es e h.1 n)

each_once_more : (es : List (Helper × LocalName)) (e : Helper × LocalName) → IsEachOnce es → IsNotLoaded e.0 es → IsEachOnce (es ++ e ∷ [])
each_once_more [] e h n = (tt, tt)
each_once_more (x ∷ es) e h n = (not_loaded_more x.0 es e h.0 (λ same. n.0 (sym same)), each_once_more es e h.1 n.1)

pub one_loaded : (loaded others : List (Helper × BoundIdentifier)) (helper : Helper) (local : BoundIdentifier) → others ≡ loaded ++ (helper, local) ∷ [] → plain_loaded others ≡ plain_loaded loaded ++ (helper, plain_name local) ∷ []
one_loaded loaded others helper local e = ap plain_loaded e ∙ plain_more loaded (helper, local)

pub once_more : (loaded others : List (Helper × BoundIdentifier)) (helper : Helper) (local : BoundIdentifier) → others ≡ loaded ++ (helper, local) ∷ [] → IsEachOnce (plain_loaded loaded) → IsNotLoaded helper (plain_loaded loaded) → IsEachOnce (plain_loaded others)
once_more loaded others helper local e h n =
    subst IsEachOnce (sym (one_loaded loaded others helper local e)) (each_once_more (plain_loaded loaded) (helper, plain_name local) h n)

pub not_among_more : (helper : Helper) (es : List (Helper × BoundIdentifier)) (i : ℕ) (e : Helper × BoundIdentifier) → i < length es → e ≡ get_or es i e → IsNotLoaded helper (plain_loaded (take i es)) → e.0 ≢ helper → IsNotLoaded helper (plain_loaded (take (i + 1) es))
not_among_more helper es i e h at n other =
    let more : plain_loaded (take (i + 1) es) ≡ plain_loaded (take i es) ++ (e.0, plain_name e.1) ∷ [] =
    ap plain_loaded (take_more es i e h ∙ ap (λ x. take i es ++ x ∷ []) (sym at)) ∙ plain_more (take i es) e in
    subst (IsNotLoaded helper) (sym more) (not_loaded_more helper (plain_loaded (take i es)) (e.0, plain_name e.1) n other)
