-- What names find in the body of an arrow that is an expression doesn't depend on the expression, and on what becomes pending for it only for
-- the new names.
use Rattle.std.proofs.Common.{◌≡◌, ℕ, refl, sym, ap, ◌∙◌, List, [], ◌∷◌, ◌++◌}
use Rattle.std.specs.Prelude.{Bool, true, false, Option, Some, None, bytes_eq, codes, map, if◌then◌else◌}
use Rattle.es_tree.specs.Words.{Text}
use Rattle.es_tree.specs.Tree.{Tree, Trees, empty, ◌before◌, trees}
use Rattle.es_semantic.specs.declared.place.Binding.TheVariants.{Variable}
use Rattle.es_semantic.specs.declared.place.Role.TheVariants.{Binds, Top}
use Rattle.es_semantic.specs.RolesOf.{reads}
use Rattle.es_resolution.specs.Declarations.{Bound, declared, declared_among, sought}
use Rattle.es_resolution.specs.Resolved.{Place, or_around}
use Rattle.es_steps.specs.Nodes.{declaration_node, declarator, return_node}
use Rattle.es_steps.specs.Open.{Additions, Pending, declaration, written}
use Rattle.es_steps.specs.Steps.{IsExpression, Whole, names_in_body}
use Rattle.es_steps.specs.Steps.Ledger.{ledger}
use Rattle.es_resolution.proofs.Basics.{either_of, if_none, sought-append}
use Rattle.es_steps.proofs.Bodies.{pending_of}
use Rattle.es_steps.proofs.Kept.{Change}
use Rattle.es_steps.proofs.Kept.Change.{above, below, lexed, sealed}
use Rattle.es_steps.proofs.Sites.{PlacesAlike}
use Rattle.es_steps.proofs.Taken.{After, Goes}
use Rattle.es_steps.proofs.Taken.Goes.{to_list, to_this}

-- WHAT A BODY DECLARES

return-silent : (v : Bool) (e : Tree) → declared v reads e ≡ [] → declared_among v Top (return_node e before empty) ≡ []
return-silent true e h = rw h
return-silent false e h = rw h

declaration-like : (v : Bool) (kind : Text) (ds : List Tree) (ts us : Trees) → declared_among v Top ts ≡ declared_among v Top us → declared_among v Top (declaration kind ds ts) ≡ declared_among v Top (declaration kind ds us)
declaration-like v kind [] ts us h = h
declaration-like v kind (d ∷ ds) ts us h = ap (λ bs. declared v Top (declaration_node kind (d ∷ ds)) ++ bs) h

-- what the declarators declare
abbrev body_declares : Bool → List Tree → List Tree → List Bound
body_declares v vs ls = declared_among v Top (written (pending_of vs ls) empty) ++ []

body-declares : (v : Bool) (vs ls : List Tree) (e : Tree) → IsExpression e → declared_among v Top (written (pending_of vs ls) (return_node e before empty)) ++ [] ≡ body_declares v vs ls
body-declares v vs ls e x = ap (λ bs. bs ++ []) (declaration-like v (codes "var") vs (declaration (codes "let") ls (return_node e before empty)) (declaration (codes "let") ls empty) (declaration-like v (codes "let") ls (return_node e before empty) empty (return-silent v e (x.declares_nothing v))))

-- MORE DECLARATORS

abbrev vars_declare : Bool → List Tree → List Bound
vars_declare v ds = declared_among v (Binds Variable) (trees ds)

new-vars : (bs : List Bound) (y : Text) → sought bs y ≡ None → sought (vars_declare true (map declarator bs)) y ≡ None
new-vars [] y e = refl
new-vars (b ∷ bs) y e = if_none (bytes_eq b.name y) b.symbol b.symbol (sought bs y) (sought (vars_declare true (map declarator bs)) y) (new-vars bs y) e

new-lets : (bs : List Bound) → vars_declare false (map declarator bs) ≡ []
new-lets [] = refl
new-lets (b ∷ bs) = new-lets bs

none-new : (v : Bool) (bs : List Bound) (y : Text) → sought bs y ≡ None → sought (vars_declare v (map declarator bs)) y ≡ None
none-new true bs y e = new-vars bs y e
none-new false bs y e = ap (λ cs. sought cs y) (new-lets bs)

vars-alike : (v : Bool) (vs : List Tree) (bs : List Bound) (y : Text) → sought bs y ≡ None → sought (vars_declare v (vs ++ map declarator bs)) y ≡ sought (vars_declare v vs) y
vars-alike v [] bs y e = none-new v bs y e
vars-alike v (d ∷ vs) bs y e =
    sought-append (declared v (Binds Variable) d) (vars_declare v (vs ++ map declarator bs)) y
    ∙ (ap (λ z. either_of (sought (declared v (Binds Variable) d) y) z) (vars-alike v vs bs y e) ∙ sym (sought-append (declared v (Binds Variable) d) (vars_declare v vs) y))

-- a `var` statement of these, or none
var-statement : (v : Bool) (vs : List Tree) (ts : Trees) → declared_among v Top (declaration (codes "var") vs ts) ≡ (vars_declare v vs ++ []) ++ declared_among v Top ts
var-statement true [] ts = refl
var-statement false [] ts = refl
var-statement true (d ∷ vs) ts = refl
var-statement false (d ∷ vs) ts = refl

list-alike : (bs cs ds : List Bound) (y : Text) → sought cs y ≡ sought bs y → sought ((cs ++ []) ++ ds) y ≡ sought ((bs ++ []) ++ ds) y
list-alike bs cs ds y e =
    sought-append (cs ++ []) ds y ∙ (ap (λ z. either_of z (sought ds y)) (sought-append cs [] y ∙ (ap (λ z. either_of z None) e ∙ sym (sought-append bs [] y))) ∙ sym (sought-append (bs ++ []) ds y))

body-more : (v : Bool) (vs ls : List Tree) (bs : List Bound) (y : Text) → sought bs y ≡ None → sought (body_declares v (vs ++ map declarator bs) ls) y ≡ sought (body_declares v vs ls) y
body-more v vs ls bs y e =
    let lets = declaration (codes "let") ls empty in
    let rest = declared_among v Top lets in
    ap (λ cs. sought (cs ++ []) y) (var-statement v (vs ++ map declarator bs) lets)
    ∙ (ends ((vars_declare v vs ++ []) ++ rest) ((vars_declare v (vs ++ map declarator bs) ++ []) ++ rest) (list-alike (vars_declare v vs) (vars_declare v (vs ++ map declarator bs)) rest y (vars-alike v vs bs y e))
    ∙ ap (λ cs. sought (cs ++ []) y) (sym (var-statement v vs lets)))
  where
    ends : (bs cs : List Bound) → sought cs y ≡ sought bs y → sought (cs ++ []) y ≡ sought (bs ++ []) y
    ends bs cs e = sought-append cs [] y ∙ (ap (λ z. either_of z None) e ∙ sym (sought-append bs [] y))

-- WHAT NAMES FIND

module _ (P : Place) where
  abbrev body_scope : List Tree → List Tree → Text → Option ℕ
  body_scope vs ls y = or_around (sought (body_declares false vs ls) y) (if P.parameters y then P.scope y else or_around (sought (body_declares true vs ls) y) (P.scope y))

  if-same : (b : Bool) (o : Option ℕ) → (if b then o else o) ≡ o
  if-same true o = refl
  if-same false o = refl

  body-scope : (vs ls : List Tree) (e : Tree) → IsExpression e → (y : Text) → (names_in_body P vs ls e).scope y ≡ body_scope vs ls y
  body-scope [] [] e x y = sym (if-same (P.parameters y) (P.scope y))
  body-scope [] (d ∷ ls) e x y = λ i. or_around (sought (body-declares false [] (d ∷ ls) e x i) y) (if P.parameters y then P.scope y else or_around (sought (body-declares true [] (d ∷ ls) e x i) y) (P.scope y))
  body-scope (v ∷ vs) ls e x y = λ i. or_around (sought (body-declares false (v ∷ vs) ls e x i) y) (if P.parameters y then P.scope y else or_around (sought (body-declares true (v ∷ vs) ls e x i) y) (P.scope y))

  no-parameters : (vs ls : List Tree) (e : Tree) (y : Text) → (names_in_body P vs ls e).parameters y ≡ false
  no-parameters [] [] e y = refl
  no-parameters [] (d ∷ ls) e y = refl
  no-parameters (v ∷ vs) ls e y = refl

  more-scope : (vs ls : List Tree) (bs : List Bound) (y : Text) → sought bs y ≡ None → body_scope (vs ++ map declarator bs) ls y ≡ body_scope vs ls y
  more-scope vs ls bs y e = λ i. or_around (body-more false vs ls bs y e i) (if P.parameters y then P.scope y else or_around (body-more true vs ls bs y e i) (P.scope y))

  scope-stays : (c : Change) (g : Goes) (given : List Bound) (w w' : Whole) (p q : Pending) (x x' : Option Bound) (a a' : Additions) (y : Text) → After c g given (ledger w p x a) (ledger w' q x' a') → sought given y ≡ None → body_scope q.vars q.lets y ≡ body_scope p.vars p.lets y
  scope-stays above to_list given w w' p q x x' a a' y h e = (λ i. body_scope (h.pending i).vars (h.pending i).lets y) ∙ more-scope p.vars p.lets given y e
  scope-stays above to_this given w w' p q x x' a a' y h e = λ i. body_scope (h.pending i).vars (h.pending i).lets y
  scope-stays below g given w w' p q x x' a a' y h e = λ i. body_scope (h.pending i).vars (h.pending i).lets y
  scope-stays lexed g given w w' p q x x' a a' y h e = λ i. body_scope (h.pending i).vars (h.pending i).lets y
  scope-stays sealed g given w w' p q x x' a a' y h e = λ i. body_scope (h.pending i).vars (h.pending i).lets y

  none-given : (given : List Bound) (in_use : Text → Bool) → ((y : Text) (o : Option ℕ) → sought given y ≡ Some o → in_use y ≡ false) → (y : Text) → in_use y ≡ true → sought given y ≡ None
  none-given given in_use fresh y u = at (sought given y) refl
    where
      at : (z : Option (Option ℕ)) → sought given y ≡ z → sought given y ≡ None
      at None e = e
      at (Some o) e = let f = fresh y o e in absurd (cc (f, u))

  pub body-places : (c : Change) (g : Goes) (given : List Bound) (w w' : Whole) (p q : Pending) (x x' : Option Bound) (a a' : Additions) (e d : Tree) → IsExpression e → IsExpression d → After c g given (ledger w p x a) (ledger w' q x' a') → ((y : Text) (o : Option ℕ) → sought given y ≡ Some o → w.in_use y ≡ false) →
      PlacesAlike w.in_use (names_in_body P p.vars p.lets e) (names_in_body P q.vars q.lets d)
  body-places c g given w w' p q x x' a a' e d xe xd h fresh = record {
    scope = λ y u. body-scope q.vars q.lets d xd y ∙ (scope-stays c g given w w' p q x x' a a' y h (none-given given w.in_use fresh y u) ∙ sym (body-scope p.vars p.lets e xe y));
    parameters = λ y u. no-parameters q.vars q.lets d y ∙ sym (no-parameters p.vars p.lets e y);
  }
