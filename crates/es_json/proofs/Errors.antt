-- What an error tells, and what it tells further out.
use Rattle.std.proofs.Common.{◌≡◌, List, [], ◌∷◌, ◌++◌, Bool, true, false, Some, Result, Ok, Err, refl, sym, subst}
use Rattle.std.specs.Result.{IsErrAnd, IfErr}
use Rattle.es_json.specs.declared.error.Step.{Step}
use Rattle.es_json.specs.declared.error.ReadError.{ReadError}
use Rattle.es_json.specs.declared.error.ReadError.TheVariants.{Shape, OutOfMemory}
use Rattle.es_json.specs.Faults.{Path, here, under, first_path_of, TellsFirst}

pub tells_same : (e : ReadError) (ps qs : List Path) → ps ≡ qs → TellsFirst e ps → TellsFirst e qs
tells_same e ps qs same h = subst (TellsFirst e) same h

first_left : (ps qs : List Path) (p : Path) → first_path_of ps ≡ Some p → first_path_of (ps ++ qs) ≡ Some p
first_left [] qs p h = absurd (cc h)
first_left (x ∷ ps) qs p h = h

-- the first of some places is the first where others follow
pub tells_left : (e : ReadError) (ps qs : List Path) → TellsFirst e ps → TellsFirst e (ps ++ qs)
tells_left (Shape steps) ps qs h = first_left ps qs _ h
tells_left OutOfMemory ps qs h = tt

-- and where none go before
pub tells_right : (e : ReadError) (ps qs : List Path) → ps ≡ [] → TellsFirst e qs → TellsFirst e (ps ++ qs)
tells_right e ps qs none h = rw none h

-- an error of a place that holds only if another doesn't is one of the other
pub tells_own : (e : ReadError) (s : Step) (a b : Bool) (qs : List Path) → (a ≡ false → b ≡ false) → TellsFirst e (under s (here a)) → TellsFirst e (under s (here b ++ qs))
tells_own (Shape steps) s true b qs h t = absurd (cc t)
tells_own (Shape steps) s false true qs h t = absurd (cc (h refl))
tells_own (Shape steps) s false false qs h t = t
tells_own OutOfMemory s a b qs h t = tt

-- what the exit of a `?` returns
pub exit_error : {T : Type 0} (r : Result T ReadError) (e : ReadError) (ps : List Path) → IsErrAnd r (λ x. x ≡ e) → TellsFirst e ps → IfErr r (λ x. TellsFirst x ps)
exit_error (Ok x) e ps h t = absurd h
exit_error (Err x) e ps h t = subst (λ y. TellsFirst y ps) (sym h) t
