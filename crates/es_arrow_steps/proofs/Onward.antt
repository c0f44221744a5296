-- What a step does to the ledger, and that each name that is pending for `this` stays the only one of its symbol's name.
use Rattle.std.proofs.Common.{◌≡◌, ℕ, suc, zero, refl, List, [], ◌∷◌, ◌++◌}
use Rattle.std.specs.Prelude.{Bool, true, false, None, map, if◌then◌else◌}
use Rattle.es_tree.specs.Tree.{Tree, node, Field, Fields, Trees, done, ◌then◌, missing, one, many, statements, empty, ◌before◌}
use Rattle.es_steps.specs.Nodes.{declarator}
use Rattle.es_steps.specs.Open.{Open, OpenField, OpenFields, OpenTrees, ends, followed_by, gap, list, nil, open_node, ◌and◌, ◌next◌, body, child, children, flanked, is_body, is_statement_body, nothing_pending, opened, opened_field, opened_fields, opened_trees}
use Rattle.es_steps.specs.Steps.{FieldStep, FieldsStep, Ledger, Site, Spot, Step, TreesStep, Whole}
use Rattle.es_steps.specs.Steps.Spot.{at_beside, at_body, at_list, at_node, at_trees}
use Rattle.es_steps.specs.Steps.Step.{acts, inside}
use Rattle.es_steps.specs.Steps.FieldsStep.{in_first, in_later}
use Rattle.es_steps.specs.Steps.FieldStep.{acts_on_body, acts_on_list, in_body, in_child, in_children, in_list, in_program, in_target}
use Rattle.es_steps.specs.Steps.TreesStep.{acts_on_flanked, after_flanked, flanks, in_flanked, in_head, in_tail}
use Rattle.es_steps.proofs.Taken.{pending_in, this_in, top_in, whole_in}
use Rattle.es_arrow_steps.specs.ArrowWalks.{UsesNames}
use Rattle.es_arrow_steps.proofs.OwnNames.{IsOwnThis, Numbers, numbers-context, numbers-none, numbers-one, numbers-own-this, numbers-taken, own-new}
use Rattle.es_arrow_steps.proofs.RuleMoves.{ActsSo, Moves}
use Rattle.es_arrow_steps.proofs.RuleMoves.Moves.{context, declared_name, still, temporaries, this_name}

-- nothing that is pending is taken away, and symbols are numbered on
pub record Onward (s s' : Ledger) : Type 0 where
  pub vars : (pending_in s').vars ≡ [] → (pending_in s).vars ≡ []
  pub lets : (pending_in s').lets ≡ (pending_in s).lets
  pub top : top_in s' ≡ top_in s
  pub back : this_in s' ≡ None → this_in s ≡ None
  pub numbers : Numbers (whole_in s) (whole_in s')
  pub this : UsesNames (whole_in s) → IsOwnThis (whole_in s) (this_in s) → IsOwnThis (whole_in s') (this_in s')

none-before : (ts us : List Tree) → ts ++ us ≡ [] → ts ≡ []
none-before [] us e = refl
none-before (t ∷ ts) us e = absurd (cc e)

moves-onward : {s s' : Ledger} → Moves s s' → Onward s s'
moves-onward (still {s = s}) = record { vars = λ e. e; lets = refl; top = refl; back = λ e. e; numbers = numbers-none (whole_in s); this = λ used h. h }
moves-onward (temporaries {w = w} {p = p} {y = y} bs h) = let k = numbers-taken w bs h in record { vars = none-before p.vars (map declarator bs); lets = refl; top = refl; back = λ e. e; numbers = k; this = λ used g. numbers-own-this w _ y k g }
moves-onward (declared_name {w = w} {y = y} x free) = let k = numbers-one w x free in record { vars = λ e. e; lets = refl; top = refl; back = λ e. e; numbers = k; this = λ used g. numbers-own-this w _ y k g }
moves-onward (context {w = w} {y = y} x free) = let k = numbers-context w x free in record { vars = λ e. e; lets = refl; top = refl; back = λ e. e; numbers = k; this = λ used g. numbers-own-this w _ y k g }
moves-onward (this_name {w = w} x fresh) = record { vars = λ e. e; lets = refl; top = refl; back = λ e. refl; numbers = numbers-one w x fresh.free; this = λ used g. own-new w x used fresh }

-- NAMES FOR `this` in open trees

abbrev mutual
  pub OwnIn : Whole → Open → Type 0
  OwnIn w (open_node k l fs) = OwnInFields w fs

  pub OwnInFields : Whole → OpenFields → Type 0
  OwnInFields w ends = Unit {0}
  OwnInFields w (f and fs) = OwnInField w f × OwnInFields w fs

  pub OwnInField : Whole → OpenField → Type 0
  OwnInField w gap = Unit {0}
  OwnInField w (child t) = OwnIn w t
  OwnInField w (body p t) = OwnIn w t
  OwnInField w (children ts) = OwnInTrees w ts
  OwnInField w (list p x a ts) = IsOwnThis w x × OwnInTrees w ts

  pub OwnInTrees : Whole → OpenTrees → Type 0
  OwnInTrees w nil = Unit {0}
  OwnInTrees w (t next ts) = OwnIn w t × OwnInTrees w ts
  OwnInTrees w (flanked bs t cs ts) = OwnIn w t × OwnInTrees w ts

-- none is pending in what is opened
module _ (w : Whole) where
  own-body : (v : Bool) (t : Open) → OwnIn w t → OwnInField w (if v then child t else body nothing_pending t)
  own-body true t h = h
  own-body false t h = h

  mutual
    pub own-opened : (t : Tree) → OwnIn w (opened t)
    own-opened (node k l fs) = own-opened-fields (is_body k) fs

    own-opened-fields : (bodies : ℕ → Bool) (fs : Fields) → OwnInFields w (opened_fields bodies fs)
    own-opened-fields bodies done = tt
    own-opened-fields bodies (f then fs) = (own-opened-field (bodies zero) f, own-opened-fields (λ i. bodies (suc i)) fs)

    own-opened-field : (v : Bool) (f : Field) → OwnInField w (opened_field v f)
    own-opened-field true missing = tt
    own-opened-field false missing = tt
    own-opened-field true (one t) = own-body (is_statement_body t) (opened t) (own-opened t)
    own-opened-field false (one t) = own-opened t
    own-opened-field true (many ts) = own-opened-trees ts
    own-opened-field false (many ts) = own-opened-trees ts
    own-opened-field true (statements ts) = (tt, own-opened-trees ts)
    own-opened-field false (statements ts) = (tt, own-opened-trees ts)

    own-opened-trees : (ts : Trees) → OwnInTrees w (opened_trees ts)
    own-opened-trees empty = tt
    own-opened-trees (t before ts) = (own-opened t, own-opened-trees ts)

  own-followed : (us : Trees) (ts : OpenTrees) → OwnInTrees w ts → OwnInTrees w (followed_by (opened_trees us) ts)
  own-followed empty ts h = h
  own-followed (u before us) ts h = (own-opened u, own-followed us ts h)

-- what a later whole leaves
module _ (w w' : Whole) (n : Numbers w w') where
  mutual
    own-later : (t : Open) → OwnIn w t → OwnIn w' t
    own-later (open_node k l fs) h = own-later-fields fs h

    own-later-fields : (fs : OpenFields) → OwnInFields w fs → OwnInFields w' fs
    own-later-fields ends h = tt
    own-later-fields (f and fs) h = (own-later-field f h.0, own-later-fields fs h.1)

    own-later-field : (f : OpenField) → OwnInField w f → OwnInField w' f
    own-later-field gap h = tt
    own-later-field (child t) h = own-later t h
    own-later-field (body p t) h = own-later t h
    own-later-field (children ts) h = own-later-trees ts h
    own-later-field (list p x a ts) h = (numbers-own-this w w' x n h.0, own-later-trees ts h.1)

    own-later-trees : (ts : OpenTrees) → OwnInTrees w ts → OwnInTrees w' ts
    own-later-trees nil h = tt
    own-later-trees (t next ts) h = (own-later t h.0, own-later-trees ts h.1)
    own-later-trees (flanked bs t cs ts) h = (own-later t h.0, own-later-trees ts h.1)

-- STEPS

module _ (R : Site → Ledger → Spot → Ledger → Spot → Type 0) (act : ActsSo R) where
  mutual
    pub onward : {n : Site} {s s' : Ledger} {t u : Open} → Step R n s t s' u → Onward s s'
    onward (acts {n = n} {s = s} {s' = s'} t u h) = moves-onward (act n s s' (at_node t) (at_node u) h).moves
    onward (inside h) = onward-in h

    onward-in : {c : ℕ → Site} {s s' : Ledger} {fs gs : OpenFields} → FieldsStep R c s fs s' gs → Onward s s'
    onward-in (in_first h) = onward-by h
    onward-in (in_later h) = onward-in h

    onward-by : {n : Site} {s s' : Ledger} {f g : OpenField} → FieldStep R n s f s' g → Onward s s'
    onward-by (in_child h) = onward h
    onward-by (in_children h) = onward-all h
    onward-by (in_body e x y h) = let o = onward h in record { vars = λ e. e; lets = refl; top = o.top; back = o.back; numbers = o.numbers; this = o.this }
    onward-by (in_list d e h) = let o = onward-all h in record { vars = λ e. e; lets = refl; top = o.top; back = o.back; numbers = o.numbers; this = o.this }
    onward-by (in_target {w = w} {w' = w'} {x = x} e h) = let o = onward-all h in record { vars = λ e. e; lets = refl; top = o.top; back = λ e. e; numbers = o.numbers; this = λ used g. numbers-own-this w w' x o.numbers g }
    onward-by (in_program {w = w} {w' = w'} {x = x} e h) = let o = onward-all h in record { vars = λ e. e; lets = refl; top = refl; back = λ e. e; numbers = o.numbers; this = λ used g. numbers-own-this w w' x o.numbers g }
    onward-by (acts_on_list {n = n} {s = s} {s' = s'} {p = p} {q = q} {x = x} {y = y} {a = a} {b = b} ts us h) = moves-onward (act n s s' (at_list p x a ts) (at_list q y b us) h).moves
    onward-by (acts_on_body {n = n} {s = s} {s' = s'} {p = p} t u h) = moves-onward (act n s s' (at_body p t) (at_node u) h).moves

    onward-all : {n : Site} {s s' : Ledger} {ts us : OpenTrees} → TreesStep R n s ts s' us → Onward s s'
    onward-all (in_head h) = onward h
    onward-all (in_tail h) = onward-all h
    onward-all (in_flanked h) = onward h
    onward-all (after_flanked h) = onward-all h
    onward-all (flanks {n = n} {s = s} {s' = s'} {bs = bs} {cs = cs} t u h) = moves-onward (act n s s' (at_node t) (at_beside bs u cs) h).moves
    onward-all (acts_on_flanked {n = n} {s = s} {s' = s'} {bs = bs} {cs = cs} t us h) = moves-onward (act n s s' (at_beside bs t cs) (at_trees us) h).moves

  mutual
    pub own-step : {n : Site} {s s' : Ledger} {t u : Open} → Step R n s t s' u → UsesNames (whole_in s) → IsOwnThis (whole_in s) (this_in s) → OwnIn (whole_in s) t → OwnIn (whole_in s') u
    own-step (acts {s' = s'} t u h) used this own = own-opened (whole_in s') u
    own-step (inside h) used this own = own-step-in h used this own

    own-step-in : {c : ℕ → Site} {s s' : Ledger} {fs gs : OpenFields} → FieldsStep R c s fs s' gs → UsesNames (whole_in s) → IsOwnThis (whole_in s) (this_in s) → OwnInFields (whole_in s) fs → OwnInFields (whole_in s') gs
    own-step-in (in_first {s = s} {s' = s'} {fs = fs} h) used this own = (own-step-by h used this own.0, own-later-fields (whole_in s) (whole_in s') (onward-by h).numbers fs own.1)
    own-step-in (in_later {s = s} {s' = s'} {f = f} h) used this own = (own-later-field (whole_in s) (whole_in s') (onward-in h).numbers f own.0, own-step-in h used this own.1)

    own-step-by : {n : Site} {s s' : Ledger} {f g : OpenField} → FieldStep R n s f s' g → UsesNames (whole_in s) → IsOwnThis (whole_in s) (this_in s) → OwnInField (whole_in s) f → OwnInField (whole_in s') g
    own-step-by (in_child h) used this own = own-step h used this own
    own-step-by (in_children h) used this own = own-step-all h used this own
    own-step-by (in_body e x y h) used this own = own-step h used this own
    own-step-by (in_list {w = w} {w' = w'} {y = y} d e h) used this own = (numbers-own-this w w' y (onward-all h).numbers own.0, own-step-all h used this own.1)
    own-step-by (in_target e h) used this own = ((onward-all h).this used own.0, own-step-all h used own.0 own.1)
    own-step-by (in_program e h) used this own = ((onward-all h).this used own.0, own-step-all h used own.0 own.1)
    own-step-by (acts_on_list {n = n} {s = s} {s' = s'} {p = p} {q = q} {x = x} {y = y} {a = a} {b = b} ts us h) used this own = ((act n s s' (at_list p x a ts) (at_list q y b us) h).list own.0, own-opened-trees (whole_in s') us)
    own-step-by (acts_on_body {s' = s'} t u h) used this own = own-opened (whole_in s') u

    own-step-all : {n : Site} {s s' : Ledger} {ts us : OpenTrees} → TreesStep R n s ts s' us → UsesNames (whole_in s) → IsOwnThis (whole_in s) (this_in s) → OwnInTrees (whole_in s) ts → OwnInTrees (whole_in s') us
    own-step-all (in_head {s = s} {s' = s'} {ts = ts} h) used this own = (own-step h used this own.0, own-later-trees (whole_in s) (whole_in s') (onward h).numbers ts own.1)
    own-step-all (in_tail {s = s} {s' = s'} {t = t} h) used this own = (own-later (whole_in s) (whole_in s') (onward-all h).numbers t own.0, own-step-all h used this own.1)
    own-step-all (in_flanked {s = s} {s' = s'} {ts = ts} h) used this own = (own-step h used this own.0, own-later-trees (whole_in s) (whole_in s') (onward h).numbers ts own.1)
    own-step-all (after_flanked {s = s} {s' = s'} {t = t} h) used this own = (own-later (whole_in s) (whole_in s') (onward-all h).numbers t own.0, own-step-all h used this own.1)
    own-step-all (flanks {n = n} {s = s} {s' = s'} {bs = bs} {cs = cs} {ts = ts} t u h) used this own = (own-opened (whole_in s') u, own-later-trees (whole_in s) (whole_in s') (moves-onward (act n s s' (at_node t) (at_beside bs u cs) h).moves).numbers ts own.1)
    own-step-all (acts_on_flanked {n = n} {s = s} {s' = s'} {bs = bs} {cs = cs} {ts = ts} t us h) used this own = own-followed (whole_in s') us ts (own-later-trees (whole_in s) (whole_in s') (moves-onward (act n s s' (at_beside bs t cs) (at_trees us) h).moves).numbers ts own.1)
