-- The rows of arrows keep the static rules of places: a function that has what the arrow had, where no `super` belongs to that, and a name
-- where `this` stood.
use Rattle.std.proofs.Common.{◌≡◌, ℕ, refl, sym, ◌∙◌, List, [], ◌∷◌}
use Rattle.std.specs.Prelude.{Bool, true, false, not, ◌&&◌, ◌||◌, Some, codes}
use Rattle.std.specs.List.{list_any}
use Rattle.es_tree.specs.Ancestors.{Ancestor, ancestor, is_derived_constructor, labels, leads_by, place_of, stands_in}
use Rattle.es_tree.specs.CoreStaticRules.{is_bad_target, is_simple_target}
use Rattle.es_tree.specs.HasForm.{same_type}
use Rattle.es_tree.specs.Names.{first_text}
use Rattle.es_tree.specs.Parens.{without_parens}
use Rattle.es_tree.specs.StaticRules.{is_bad_rest, is_label}
use Rattle.es_tree.specs.Table.{own_kinds}
use Rattle.es_tree.specs.Tree.{Tree, node, Label, Fields, done, ◌then◌, missing, one, many, statements, Trees, empty, ◌before◌, kind_of}
use Rattle.es_tree.specs.declared.ast_type.AstType.TheVariants.{ArrowFunctionExpression, ClassExpression, FunctionBody, FunctionExpression, Identifier, LabeledStatement, MethodDefinition, ObjectPattern, ObjectTarget, RestElement, ReturnStatement, TargetRest}
use Rattle.es_tree.specs.declared.options.EnvOptions.{EnvOptions}
use Rattle.es_tree.specs.declared.place.Place.{Place}
use Rattle.es_tree.specs.declared.place.Place.TheVariants.{Other, Target}
use Rattle.es_tree.specs.declared.table.Sort.{Sort}
use Rattle.es_tree.specs.declared.table.Sort.TheVariants.{Expression as s-Expression}
use Rattle.es_resolution.specs.Declarations.{Bound}
use Rattle.es_steps.specs.Nodes.{body_node, identifier, made, placed, return_node, word}
use Rattle.es_valid_steps.specs.PlaceRules.{Keeps, KeepsAll, KeepsHere}
use Rattle.es_valid_steps.proofs.Free.{unmarked}
use Rattle.es_valid_steps.proofs.Loose.{Loose, goes, loose}
use Rattle.es_valid_steps.proofs.Loose.PlaceGoes.{within}
use Rattle.es_valid_steps.proofs.Moves.{super-moved}
use Rattle.es_valid_steps.proofs.Offers.{Near, Offers, alike-self}
use Rattle.es_valid_steps.proofs.Offers.PlaceOffers.{same_place}
use Rattle.es_valid_arrows.proofs.Fits.{ArrowsFit, ArrowsFitAll}
use Rattle.es_valid_arrows.proofs.Outside.{Half, out-all, out-tree}

-- A FUNCTION in a constructor offers all that an arrow does

abbrev in_constructor : List Ancestor → List Ancestor
in_constructor up = ancestor MethodDefinition (made (Some (codes "constructor") ∷ []) (false ∷ false ∷ [])) done 1 0 ∷ (ancestor ClassExpression (made [] []) (missing then one (word []) then done) 2 0 ∷ up)

no-rest : (x y z w : Bool) → ((x && false && y) || (z && false && w)) ≡ false
no-rest true y true w = refl
no-rest true y false w = refl
no-rest false y true w = refl
no-rest false y false w = refl

no-constructor : (l : Label) (fs : Fields) (i : ℕ) (up : List Ancestor) → is_derived_constructor (ancestor ArrowFunctionExpression l fs i 0 ∷ up) ≡ false
no-constructor l fs i [] = refl
no-constructor l fs i (a ∷ up) = refl

module _ (l : Label) (fs : Fields) (i : ℕ) where
  abbrev in_function : List Ancestor → List Ancestor
  in_function up = ancestor FunctionExpression l fs i 0 ∷ up

  function-rest : (up : List Ancestor) (t : Tree) → is_bad_rest (in_function up) t ≡ false
  function-rest [] t = refl
  function-rest (a ∷ up) t = refl

  function-inner : (up : List Ancestor) (a : Ancestor) (t : Tree) → is_bad_rest (a ∷ in_function up) t ≡ false
  function-inner up a t = no-rest (leads_by RestElement 0 a) (not (same_type (kind_of t) Identifier)) (leads_by TargetRest 0 a) (not (is_simple_target (kind_of (without_parens t))))

  function-loose : (up : List Ancestor) → Loose (in_function up)
  function-loose up = record { label = refl; top = refl; for_in = refl; for_of = refl; exported = refl; lone = refl; rest = function-rest up; inner_rest = function-inner up }

  -- as it stands there, and elsewhere
  function-half : (up : List Ancestor) → Half (in_function (in_constructor up)) (in_function up)
  function-half up = record { labels = refl; loop = λ h. h; breakable = λ h. h; function = λ h. h; targets = λ h. h; in_module = refl; method = λ h. h; constructor = λ h. absurd (cc h); class = λ h. h }

module _ (l : Label) (all fs : Fields) (up : List Ancestor) where
  -- from an arrow
  arrow-offers : (i j : ℕ) → Offers true (ancestor ArrowFunctionExpression l all i 0 ∷ up) (ancestor FunctionExpression l fs j 0 ∷ in_constructor up)
  arrow-offers i j = record { labels = refl; loop = λ j h. h; breakable = λ j h. h; function = λ h. h; members = λ h. refl; calls = λ h. refl; targets = λ h. refl; in_module = refl; method = λ h. h; constructor = λ h. absurd (cc (h, no-constructor l all i up)); class = λ h. h }

  parameter-goes : (t : Tree) → Keeps (ancestor ArrowFunctionExpression l all 0 0 ∷ up) t → Keeps (ancestor FunctionExpression l fs 1 0 ∷ in_constructor up) t
  parameter-goes t h = goes (ancestor ArrowFunctionExpression l all 0 0 ∷ up) (ancestor FunctionExpression l fs 1 0 ∷ in_constructor up) (loose l all 0 0 up ArrowFunctionExpression refl) (function-loose l fs 1 (in_constructor up)) true (arrow-offers 0 1) t
      (super-moved (ancestor ArrowFunctionExpression l all 0 0 ∷ up) (ancestor FunctionExpression l fs 1 0 ∷ in_constructor up) true (arrow-offers 0 1) (λ x. absurd (cc x)) (λ x. absurd (cc x)) t) (within (same_place Other)) (λ x. absurd (cc x)) h

  parameters-go : (ts : Trees) → KeepsAll (ancestor ArrowFunctionExpression l all 0 0 ∷ up) ts → KeepsAll (ancestor FunctionExpression l fs 1 0 ∷ in_constructor up) ts
  parameters-go empty h = tt
  parameters-go (t before ts) h = (parameter-goes t h.0, parameters-go ts h.1)

  body-goes : (t : Tree) → Keeps (ancestor ArrowFunctionExpression l all 1 0 ∷ up) t → Keeps (ancestor FunctionExpression l fs 2 0 ∷ in_constructor up) t
  body-goes t h = goes (ancestor ArrowFunctionExpression l all 1 0 ∷ up) (ancestor FunctionExpression l fs 2 0 ∷ in_constructor up) (loose l all 1 0 up ArrowFunctionExpression refl) (function-loose l fs 2 (in_constructor up)) true (arrow-offers 1 2) t
      (super-moved (ancestor ArrowFunctionExpression l all 1 0 ∷ up) (ancestor FunctionExpression l fs 2 0 ∷ in_constructor up) true (arrow-offers 1 2) (λ x. absurd (cc x)) (λ x. absurd (cc x)) t) (within (same_place Other)) (λ x. absurd (cc x)) h

  function-near-first : Near (ancestor FunctionExpression l fs 1 0 ∷ in_constructor up) (ancestor FunctionExpression l fs 1 0 ∷ up)
  function-near-first = record { place = same_place Other; head = alike-self _; rest = λ t. function-rest l fs 1 up t ∙ sym (function-rest l fs 1 (in_constructor up) t) }

  function-near-second : Near (ancestor FunctionExpression l fs 2 0 ∷ in_constructor up) (ancestor FunctionExpression l fs 2 0 ∷ up)
  function-near-second = record { place = same_place Other; head = alike-self _; rest = λ t. function-rest l fs 2 up t ∙ sym (function-rest l fs 2 (in_constructor up) t) }

  -- where no `super` belongs to it
  module _ (o : EnvOptions) where
    parameters-keep : (parameter reaches : Bool) (ts : Trees) → ArrowsFitAll o true parameter reaches ts → KeepsAll (ancestor ArrowFunctionExpression l all 0 0 ∷ up) ts → KeepsAll (ancestor FunctionExpression l fs 1 0 ∷ up) ts
    parameters-keep parameter reaches ts f h = out-all o (ancestor FunctionExpression l fs 1 0) (in_constructor up) up ts parameter reaches (function-half l fs 1 up) function-near-first f (parameters-go ts h)

    body-keeps : (parameter reaches : Bool) (t : Tree) → ArrowsFit o true parameter reaches t → Keeps (ancestor ArrowFunctionExpression l all 1 0 ∷ up) t → Keeps (ancestor FunctionExpression l fs 2 0 ∷ up) t
    body-keeps parameter reaches t f h = out-tree o (ancestor FunctionExpression l fs 2 0) (in_constructor up) up t parameter reaches (function-half l fs 2 up) function-near-second f (body-goes t h)

-- AN EXPRESSION in the `return` of a body

module _ (l : Label) (all fs bs rs : Fields) (up : List Ancestor) where
  abbrev returning : List Ancestor → List Ancestor
  returning vp = ancestor FunctionBody (made [] []) bs 1 0 ∷ (ancestor FunctionExpression l fs 2 0 ∷ vp)

  abbrev here : Ancestor
  here = ancestor ReturnStatement (made [] []) rs 0 0

  return-offers : Offers true (ancestor ArrowFunctionExpression l all 1 0 ∷ up) (here ∷ returning (in_constructor up))
  return-offers = record { labels = refl; loop = λ j h. h; breakable = λ j h. h; function = λ h. h; members = λ h. refl; calls = λ h. refl; targets = λ h. refl; in_module = refl; method = λ h. h; constructor = λ h. absurd (cc (h, no-constructor l all 1 up)); class = λ h. h }

  return-half : Half (here ∷ returning (in_constructor up)) (here ∷ returning up)
  return-half = record { labels = refl; loop = λ h. h; breakable = λ h. h; function = λ h. h; targets = λ h. h; in_module = refl; method = λ h. h; constructor = λ h. absurd (cc h); class = λ h. h }

  returned-keeps : (o : EnvOptions) (parameter reaches : Bool) (e : Tree) → ArrowsFit o true parameter reaches e → Keeps (ancestor ArrowFunctionExpression l all 1 0 ∷ up) e → Keeps (here ∷ returning up) e
  returned-keeps o parameter reaches e f h =
      out-tree o here (returning (in_constructor up)) (returning up) e parameter reaches return-half (record { place = same_place Other; head = alike-self _; rest = λ t. refl }) f
      (goes (ancestor ArrowFunctionExpression l all 1 0 ∷ up) (here ∷ returning (in_constructor up)) (loose l all 1 0 up ArrowFunctionExpression refl) (loose (made [] []) rs 0 0 (returning (in_constructor up)) ReturnStatement refl) true return-offers e
      (super-moved (ancestor ArrowFunctionExpression l all 1 0 ∷ up) (here ∷ returning (in_constructor up)) true return-offers (λ x. absurd (cc x)) (λ x. absurd (cc x)) e) (within (same_place Other)) (λ x. absurd (cc x)) h)

-- THE FUNCTION ITSELF

-- no arrow is a target
arrow-own : (s : Sort) → list_any (same_type ArrowFunctionExpression) (own_kinds s) ≡ false
arrow-own s-Expression = refl
arrow-own _ = refl

function-target : (p : Place) (l : Label) (gs fs : Fields) → is_bad_target p (node ArrowFunctionExpression l gs) ≡ false → is_bad_target p (node FunctionExpression l fs) ≡ false
function-target (Target s) l gs fs h =
    let broken : is_bad_target (Target s) (node ArrowFunctionExpression l gs) ≡ true = λ i. not (arrow-own s i || false) in
    absurd (cc (h, broken))
function-target _ l gs fs h = refl

function-place : (up : List Ancestor) (l : Label) (gs fs : Fields) → is_bad_rest up (node ArrowFunctionExpression l gs) ≡ false → is_bad_rest up (node FunctionExpression l fs) ≡ false
function-place [] l gs fs h = refl
function-place (a ∷ []) l gs fs h = refl
function-place (a ∷ (b ∷ up)) l gs fs h = h

function-here : (up : List Ancestor) (l : Label) (gs fs : Fields) → KeepsHere up (node ArrowFunctionExpression l gs) → KeepsHere up (node FunctionExpression l fs)
function-here up l gs fs h = record { jump = refl; label = refl; returned = refl; super_word = refl; target = function-target (place_of up) l gs fs h.target; chain = refl; mark = unmarked (place_of up) FunctionExpression l fs refl; deleted = refl; value = refl; using_word = refl; head = refl; item = refl; accessor = refl; rest = function-place up l gs fs h.rest; declaration = refl; meta = refl }

pub with-body-keeps : (o : EnvOptions) (up : List Ancestor) (l : Label) (ps : Trees) (b : Tree) (arrow parameter reaches : Bool) → ArrowsFit o arrow parameter reaches (node ArrowFunctionExpression l (many ps then one b then done)) → Keeps up (node ArrowFunctionExpression l (many ps then one b then done)) → Keeps up (node FunctionExpression l (missing then many ps then one b then done))
with-body-keeps o up l ps b arrow parameter reaches f h =
    let old : Fields = many ps then one b then done in
    let new : Fields = missing then many ps then one b then done in
    (function-here up l old new h.0, (tt, (parameters-keep l old new up o true reaches ps f.1.0 h.1.0, (body-keeps l old new up o false reaches b f.1.1.0 h.1.1.0, tt))))

pub with-expression-keeps : (o : EnvOptions) (up : List Ancestor) (l : Label) (ps : Trees) (e : Tree) (arrow parameter reaches : Bool) → ArrowsFit o arrow parameter reaches (node ArrowFunctionExpression l (many ps then one e then done)) → Keeps up (node ArrowFunctionExpression l (many ps then one e then done)) → Keeps up (node FunctionExpression l (missing then many ps then one (body_node (return_node e before empty)) then done))
with-expression-keeps o up l ps e arrow parameter reaches f h =
    let old : Fields = many ps then one e then done in
    let new : Fields = missing then many ps then one (body_node (return_node e before empty)) then done in
    let list : Fields = many empty then statements (return_node e before empty) then done in
    let inside = ancestor FunctionExpression l new 2 0 ∷ up in
    let body : KeepsHere inside (body_node (return_node e before empty)) = record { jump = refl; label = refl; returned = refl; super_word = refl; target = refl; chain = refl; mark = refl; deleted = refl; value = refl; using_word = refl; head = refl; item = refl; accessor = refl; rest = function-rest l new 2 up (body_node (return_node e before empty)); declaration = refl; meta = refl } in
    let returned : KeepsHere (ancestor FunctionBody (made [] []) list 1 0 ∷ inside) (return_node e) = record { jump = refl; label = refl; returned = refl; super_word = refl; target = refl; chain = refl; mark = refl; deleted = refl; value = refl; using_word = refl; head = refl; item = refl; accessor = refl; rest = refl; declaration = refl; meta = refl } in
    (function-here up l old new h.0, (tt, (parameters-keep l old new up o true reaches ps f.1.0 h.1.0, ((body, (tt, (((returned, (returned-keeps l old new list (one e then done) up o false reaches e f.1.1.0 h.1.1.0, tt)), tt), tt))), tt))))

-- A NAME in the place of `this`, which is no label

name-target : (p : Place) (l : Label) → is_bad_target p (node Identifier l done) ≡ false
name-target (Target s) l = at (list_any (same_type Identifier) (own_kinds s))
  where
    at : (b : Bool) → not (b || true) ≡ false
    at true = refl
    at false = refl
name-target _ l = refl

name-rest : (up : List Ancestor) (l : Label) → is_bad_rest up (node Identifier l done) ≡ false
name-rest [] l = refl
name-rest (a ∷ []) l = refl
name-rest (a ∷ (b ∷ up)) l = at (leads_by RestElement 0 a) (same_type b.kind ObjectPattern) (leads_by TargetRest 0 a) (same_type b.kind ObjectTarget)
  where
    at : (x y z w : Bool) → ((x && y && false) || (z && w && false)) ≡ false
    at true true true true = refl
    at true true true false = refl
    at true true false w = refl
    at true false true true = refl
    at true false true false = refl
    at true false false w = refl
    at false y true true = refl
    at false y true false = refl
    at false y false w = refl

pub placed-keeps : (up : List Ancestor) (l : Label) (b : Bound) → stands_in LabeledStatement 0 up ≡ false → Keeps up (placed l (identifier b))
placed-keeps up l b e =
    let m : Label = record (made (Some b.name ∷ []) []) { start = l.start; stop = l.stop; marks = b.symbol ∷ [] } in
    (record { jump = refl; label = λ i. e i && list_any (is_label (first_text m.texts)) (labels up); returned = refl; super_word = refl; target = name-target (place_of up) m; chain = refl; mark = unmarked (place_of up) Identifier m done refl; deleted = refl; value = refl; using_word = refl; head = refl; item = refl; accessor = refl; rest = name-rest up m; declaration = refl; meta = refl }, tt)
