-- What `using` becomes keeps the static rules of places: the statements of a list, in a `try` in its place, where `using` is `const`.
use Rattle.std.proofs.Common.{◌≡◌, ℕ, refl, sym, ap, subst, List, [], ◌∷◌}
use Rattle.std.specs.Prelude.{Bool, true, false, not, ◌&&◌, ◌||◌, bytes_eq, Some, codes}
use Rattle.es_tree.specs.Ancestors.{Ancestor, ancestor, is_script_top, leads_by, place_of, stands_in}
use Rattle.es_tree.specs.CoreStaticRules.{binding_place, declarator_place, is_bad_target, is_simple_target}
use Rattle.es_tree.specs.HasForm.{same_type}
use Rattle.es_tree.specs.Names.{first_text}
use Rattle.es_tree.specs.Parens.{without_parens}
use Rattle.es_tree.specs.StaticRules.{has_pattern, is_bad_rest, is_declaration, is_lone_body, is_lone_declarator, is_unmarked_callee, is_unmarked_object}
use Rattle.es_tree.specs.Tree.{Tree, node, Label, Fields, done, ◌then◌, one, many, statements, Trees, empty, ◌before◌, kind_of}
use Rattle.es_tree.specs.Words.{Text}
use Rattle.es_tree.specs.declared.ast_type.AstType.TheVariants.{BlockStatement, CallExpression, CatchClause, ExportNamedDeclaration, ExpressionStatement, ForInStatement, Identifier, RestElement, TargetRest, TryStatement, VariableDeclaration, VariableDeclarator}
use Rattle.es_tree.specs.declared.place.Place.{Place}
use Rattle.es_tree.specs.declared.place.Place.TheVariants.{Other}
use Rattle.es_resolution.specs.Declarations.{Bound}
use Rattle.es_steps.specs.Nodes.{assign_node, block_node, call_node, catch_node, declaration_node, declarator_with, identifier, made, member_node, statement_node, word}
use Rattle.es_steps.specs.UsingBlocks.{Constants, UsedAll, method_call, protected}
use Rattle.es_steps.specs.UsingBlocks.Constants.{ended, stays, using}
use Rattle.es_steps.specs.UsingBlocks.UsedAll.{no_more, uses}
use Rattle.es_valid_steps.specs.PlaceRules.{Keeps, KeepsAll, KeepsHere}
use Rattle.es_valid_steps.proofs.Free.{Free, free-as, made-there, no-true, room-in, unmarked}
use Rattle.es_valid_steps.proofs.Free.Under.{itself}
use Rattle.es_valid_steps.proofs.Loose.{Loose, PlaceGoes, goes, loose}
use Rattle.es_valid_steps.proofs.Loose.OpenPlace.{at_other}
use Rattle.es_valid_steps.proofs.Loose.PlaceGoes.{within}
use Rattle.es_valid_steps.proofs.MadeNodes.{free-assignment, free-call, free-empty, free-member, free-name, member-target}
use Rattle.es_valid_steps.proofs.Moves.{keeps-moved, never-and, super-moved}
use Rattle.es_valid_steps.proofs.Offers.{Near, Offers, PlaceOffers}
use Rattle.es_valid_steps.proofs.Offers.PlaceOffers.{same_place}
use Rattle.es_valid_using.proofs.Frames.{frame-made, no-rest}

-- FROM ONE LIST TO ANOTHER

-- what keeps the rules in the one list does in the other
pub record Sinks (from to : List Ancestor) : Type 0 where
  pub loose_from : Loose from
  pub loose_to : Loose to
  pub offers : Offers true from to
  pub place_from : place_of from ≡ Other
  pub place_to : place_of to ≡ Other
  pub callee : is_unmarked_callee from ≡ false
  pub object : is_unmarked_object from ≡ false

-- what the rules of rests ask of a parent and of its parent
pub below-rest : (x y z w : Bool) → ((x && false && y) || (z && false && w)) ≡ false
below-rest true y true w = refl
below-rest true y false w = refl
below-rest false y true w = refl
below-rest false y false w = refl

-- a declarator, in a declaration
module _ (k : Label) (ds : Fields) (i : ℕ) (a : Ancestor) (up : List Ancestor) where
  pub declarator-loose : Loose (ancestor VariableDeclarator k ds i 0 ∷ (a ∷ up))
  declarator-loose = record { label = refl; top = refl; for_in = refl; for_of = refl; exported = refl; lone = refl; rest = λ t. refl; inner_rest = λ b t. below-rest (leads_by RestElement 0 b) (not (same_type (kind_of t) Identifier)) (leads_by TargetRest 0 b) (not (is_simple_target (kind_of (without_parens t)))) }

-- a declaration by another word
pub variable-here : (to : List Ancestor) → Loose to → place_of to ≡ Other → (l : Label) (ds : Trees) → bytes_eq (first_text l.texts) (codes "using") ≡ false → KeepsHere to (node VariableDeclaration l (many ds then done))
variable-here to r p l ds e = record {
  jump = refl;
  label = refl;
  returned = refl;
  super_word = refl;
  target = ap (λ q. is_bad_target q (node VariableDeclaration l (many ds then done))) p;
  chain = refl;
  mark = unmarked (place_of to) VariableDeclaration l (many ds then done) refl;
  deleted = refl;
  value = refl;
  using_word = ap (λ v. v && (has_pattern ds || is_script_top to || stands_in ForInStatement 0 to || stands_in ExportNamedDeclaration 0 to)) e;
  head = λ i. (r.for_in i || r.for_of i) && not (is_lone_declarator ds);
  item = refl;
  accessor = refl;
  rest = r.rest (node VariableDeclaration l (many ds then done));
  declaration = never-and (is_declaration VariableDeclaration l) (is_lone_body to) r.lone;
  meta = refl;
}

-- a declarator with a value
pub declarator-here : (to : List Ancestor) → Loose to → place_of to ≡ Other → (l : Label) (fs : Fields) (k : Label) (x e : Tree) → KeepsHere (ancestor VariableDeclaration l fs 0 0 ∷ to) (node VariableDeclarator k (one x then one e then done))
declarator-here to r p l fs k x e = record {
  jump = refl;
  label = refl;
  returned = refl;
  super_word = refl;
  target = ap (λ q. is_bad_target (declarator_place q (first_text l.texts)) (node VariableDeclarator k (one x then one e then done))) p;
  chain = refl;
  mark = unmarked (place_of (ancestor VariableDeclaration l fs 0 0 ∷ to)) VariableDeclarator k (one x then one e then done) refl;
  deleted = refl;
  value = never-and _ _ refl;
  using_word = refl;
  head = refl;
  item = refl;
  accessor = refl;
  rest = r.inner_rest (ancestor VariableDeclaration l fs 0 0) (node VariableDeclarator k (one x then one e then done));
  declaration = refl;
  meta = refl;
}

-- A METHOD of the context, called: it keeps the rules where an expression may stand

method-free : (up : List Ancestor) (c : Bound) (name : Text) → Free up (member_node (identifier c) name)
method-free up c name = free-member up (made [] (false ∷ false ∷ [])) (identifier c) (word name) refl (free-as false true up (identifier c) (free-name up _)) (free-name up _)

-- DECLARATIONS

module _ (from to : List Ancestor) (s : Sinks from to) (l m : Label) (ds es : Fields) where
  abbrev declared_from : Label → Fields → ℕ → List Ancestor
  declared_from k fs i = ancestor VariableDeclarator k fs i 0 ∷ (ancestor VariableDeclaration l ds 0 0 ∷ from)

  abbrev declared_to : Label → Fields → ℕ → List Ancestor
  declared_to k fs i = ancestor VariableDeclarator k fs i 0 ∷ (ancestor VariableDeclaration m es 0 0 ∷ to)

  module _ (k : Label) (fs gs : Fields) where
    name-offers : Offers true (declared_from k fs 0) (declared_to k gs 0)
    name-offers = let o = s.offers in record { labels = o.labels; loop = o.loop; breakable = o.breakable; function = o.function; members = o.members; calls = o.calls; targets = o.targets; in_module = o.in_module; method = λ h. h; constructor = λ h. h; class = λ h. h }

    name-place : PlaceOffers (place_of (declared_from k fs 0)) (place_of (declared_to k gs 0))
    name-place = subst (λ (p : Place). PlaceOffers (binding_place (declarator_place p (first_text l.texts))) (place_of (declared_to k gs 0))) (sym s.place_from) (subst (λ (q : Place). PlaceOffers Other (binding_place (declarator_place q (first_text m.texts)))) (sym s.place_to) (same_place Other))

    name-near : Near (declared_from k fs 0) (declared_to k gs 0)
    name-near = record { place = name-place; head = record { kind = refl; label = refl; index = refl; labels = refl; derived = refl }; rest = λ t. refl }

    pub name-keeps : (x : Tree) → Keeps (declared_from k fs 0) x → Keeps (declared_to k gs 0) x
    name-keeps x h = keeps-moved true (declared_from k fs 0) (declared_to k gs 0) x name-offers name-near (λ e. absurd (cc e)) h

    -- the value, as what is passed to a call
    module _ (n : Label) (hs : Fields) where
      abbrev passed : List Ancestor
      passed = ancestor CallExpression n hs 1 0 ∷ declared_to k gs 1

      value-offers : Offers true (declared_from k fs 1) passed
      value-offers = let o = s.offers in record { labels = o.labels; loop = o.loop; breakable = o.breakable; function = o.function; members = o.members; calls = o.calls; targets = o.targets; in_module = o.in_module; method = λ h. h; constructor = λ h. h; class = λ h. h }

      value-keeps : (e : Tree) → Keeps (declared_from k fs 1) e → Keeps passed e
      value-keeps e h = goes (declared_from k fs 1) passed (declarator-loose k fs 1 (ancestor VariableDeclaration l ds 0 0) from) (loose n hs 1 0 (declared_to k gs 1) CallExpression refl) true value-offers e
          (super-moved (declared_from k fs 1) passed true value-offers (λ x. absurd (cc x)) (λ x. absurd (cc x)) e) (within (same_place Other)) (λ x. absurd (cc x)) h

    pub used-keeps : (c : Bound) (e : Tree) → Keeps (declared_from k fs 1) e → Keeps (declared_to k gs 1) (method_call c (codes "u") (e ∷ []))
    used-keeps c e h =
        let up = declared_to k gs 1 in
        let callee = member_node (identifier c) (codes "u") in
        let inner : Fields = one callee then many (e before empty) then done in (
          made-there up CallExpression (made [] (false ∷ [])) inner (declarator-loose k gs 1 (ancestor VariableDeclaration m es 0 0) to) refl refl refl refl,
          (method-free up c (codes "u") (ancestor CallExpression (made [] (false ∷ [])) inner 0 0 ∷ up) (room-in up up CallExpression (made [] (false ∷ [])) inner 0 refl itself at_other), ((value-keeps (made [] (false ∷ [])) inner e h, tt), tt)),
        )

  pub uses-keep : (c : Bound) (xs ys : Trees) → UsedAll c xs ys → KeepsAll (ancestor VariableDeclaration l ds 0 0 ∷ from) xs → KeepsAll (ancestor VariableDeclaration m es 0 0 ∷ to) ys
  uses-keep c xs ys no_more h = tt
  uses-keep c xs ys (uses {l = k} {x = x} {e = e} {ds = xs'} {es = ys'} r) h =
      let old : Fields = one x then one e then done in
      let call = method_call c (codes "u") (e ∷ []) in
      let new : Fields = one x then one call then done in
      ((declarator-here to s.loose_to s.place_to m es k x call, (name-keeps k old new x h.0.1.0, (used-keeps k old new c e h.0.1.1.0, tt))), uses-keep c xs' ys' r h.1)

module _ (from to : List Ancestor) (s : Sinks from to) (c : Bound) where
  pub declaration-keeps : (l : Label) (xs ys : Trees) → UsedAll c xs ys → Keeps from (node VariableDeclaration l (many xs then done)) → Keeps to (node VariableDeclaration (record l { texts = Some (codes "const") ∷ [] }) (many ys then done))
  declaration-keeps l xs ys r h =
      let m : Label = record l { texts = Some (codes "const") ∷ [] } in
      (variable-here to s.loose_to s.place_to m ys refl, (uses-keep from to s l m (many xs then done) (many ys then done) c xs ys r h.1.0, tt))

  from-other : (t : Tree) → PlaceGoes t (place_of from) (place_of to)
  from-other t = subst (λ (p : Place). PlaceGoes t p (place_of to)) (sym s.place_from) (subst (λ (q : Place). PlaceGoes t Other q) (sym s.place_to) (within (same_place Other)))

  -- a statement as it is
  pub statement-sinks : (t : Tree) → Keeps from t → Keeps to t
  statement-sinks t h = goes from to s.loose_from s.loose_to true s.offers t (super-moved from to true s.offers (λ x. no-true (is_unmarked_callee from) _ s.callee x) (λ x. no-true (is_unmarked_object from) _ s.object x) t) (from-other t) (λ x. absurd (cc x)) h

  pub constants-keep : (ts us : Trees) → Constants c ts us → KeepsAll from ts → KeepsAll to us
  constants-keep ts us ended h = tt
  constants-keep ts us (stays {t = t} {ts = ts'} {us = us'} e r) h = (statement-sinks t h.0, constants-keep ts' us' r h.1)
  constants-keep ts us (using {l = l} {ds = ds} {es = es} {ts = ts'} {us = us'} e d r) h = (declaration-keeps l ds es d h.0, constants-keep ts' us' r h.1)

-- THE `try`

abbrev pub context_of : Bound → Tree
context_of c = declaration_node (codes "var") (declarator_with (identifier c) (call_node (member_node (word (codes "babelHelpers")) (codes "usingCtx")) []) ∷ [])

abbrev pub in_block : Bound → Trees → Fields
in_block c us = statements (context_of c before us) then done

abbrev pub error_stored : Bound → Bound → Tree
error_stored c u = assign_node (member_node (identifier c) (codes "e")) (identifier u)

abbrev pub handler_of : Bound → Bound → Tree
handler_of c u = catch_node (identifier u) (block_node (statement_node (error_stored c u) before empty))

abbrev pub finalizer_of : Bound → Tree
finalizer_of c = block_node (statement_node (method_call c (codes "d") []) before empty)

abbrev pub in_try : Bound → Bound → Trees → Fields
in_try c u us = one (block_node (context_of c before us)) then one (handler_of c u) then one (finalizer_of c) then done

-- around the statements in it
abbrev pub inside_try : Bound → Bound → Trees → List Ancestor → List Ancestor
inside_try c u us up = ancestor BlockStatement (made [] []) (in_block c us) 0 0 ∷ (ancestor TryStatement (made [] []) (in_try c u us) 0 0 ∷ up)

try-rest : (l : Label) (fs : Fields) (i : ℕ) (up : List Ancestor) (t : Tree) → is_bad_rest (ancestor TryStatement l fs i 0 ∷ up) t ≡ false
try-rest l fs i up t = no-rest (ancestor TryStatement l fs i 0) refl refl up t

-- an expression as a statement
module _ (l : Label) (fs : Fields) (a : Ancestor) (up : List Ancestor) where
  abbrev in_a_list : List Ancestor
  in_a_list = ancestor BlockStatement l fs 0 0 ∷ (a ∷ up)

  expression-keeps : (e : Tree) → Free (ancestor ExpressionStatement (made [] []) (one e then done) 0 0 ∷ in_a_list) e → Keeps in_a_list (statement_node e)
  expression-keeps e h =
      let there = ancestor ExpressionStatement (made [] []) (one e then done) 0 0 ∷ in_a_list in
      let loose_there : Loose there = record { label = refl; top = refl; for_in = refl; for_of = refl; exported = refl; lone = refl; rest = λ t. refl; inner_rest = λ b t. below-rest (leads_by RestElement 0 b) (not (same_type (kind_of t) Identifier)) (leads_by TargetRest 0 b) (not (is_simple_target (kind_of (without_parens t)))) } in (
        record { jump = refl; label = refl; returned = refl; super_word = refl; target = refl; chain = refl; mark = refl; deleted = refl; value = refl; using_word = refl; head = refl; item = refl; accessor = refl; rest = refl; declaration = refl; meta = refl },
        (h there (record { under = itself; is_loose = loose_there; place = at_other }), tt),
      )

module _ (c u : Bound) where
  context-keeps : (us : Trees) (up : List Ancestor) → Keeps (inside_try c u us up) (context_of c)
  context-keeps us up =
      let to = inside_try c u us up in
      let to_loose = loose (made [] []) (in_block c us) 0 0 (ancestor TryStatement (made [] []) (in_try c u us) 0 0 ∷ up) BlockStatement refl in
      let word_label : Label = made (Some (codes "var") ∷ []) [] in
      let call = call_node (member_node (word (codes "babelHelpers")) (codes "usingCtx")) [] in
      let new : Fields = one (identifier c) then one call then done in
      let list : Fields = many (node VariableDeclarator (made [] []) new before empty) then done in
      let there = ancestor VariableDeclaration word_label list 0 0 in
      let value = ancestor VariableDeclarator (made [] []) new 1 0 ∷ (there ∷ to) in
      let free : Free value call = free-call value (made [] (false ∷ [])) (member_node (word (codes "babelHelpers")) (codes "usingCtx")) empty refl (free-as true false value (member_node (word (codes "babelHelpers")) (codes "usingCtx")) (method-free value _ (codes "usingCtx"))) (free-empty value) in (
        variable-here to to_loose refl word_label (node VariableDeclarator (made [] []) new before empty) refl,
        (
          (
            (
              declarator-here to to_loose refl word_label list (made [] []) (identifier c) call,
              (
                (made-there (ancestor VariableDeclarator (made [] []) new 0 0 ∷ (there ∷ to)) Identifier _ done (declarator-loose (made [] []) new 0 there to) refl refl refl refl, tt),
                (free value (record { under = itself; is_loose = declarator-loose (made [] []) new 1 there to; place = at_other }), tt),
              ),
            ),
            tt,
          ),
          tt,
        ),
      )

  handler-keeps : (us : Trees) (up : List Ancestor) → Keeps (ancestor TryStatement (made [] []) (in_try c u us) 1 0 ∷ up) (handler_of c u)
  handler-keeps us up =
      let to = ancestor TryStatement (made [] []) (in_try c u us) 1 0 ∷ up in
      let body = block_node (statement_node (error_stored c u) before empty) in
      let new : Fields = one (identifier u) then one body then done in
      let clause = ancestor CatchClause (made [] []) new 1 0 in
      let list : Fields = statements (statement_node (error_stored c u) before empty) then done in
      let there = ancestor ExpressionStatement (made [] []) (one (error_stored c u) then done) 0 0 ∷ in_a_list (made [] []) list clause to in
      let free = free-assignment there (made (Some (codes "=") ∷ []) []) (member_node (identifier c) (codes "e")) (identifier u) (member-target there (made [] (false ∷ false ∷ [])) (identifier c) (word (codes "e")) refl (free-as false true there (identifier c) (free-name there _)) (free-name there _)) (free-name there _) in (
        frame-made to CatchClause (made [] []) new refl refl (try-rest (made [] []) (in_try c u us) 1 up (handler_of c u)),
        (
          (made-there (ancestor CatchClause (made [] []) new 0 0 ∷ to) Identifier _ done (loose (made [] []) new 0 0 to CatchClause refl) refl refl refl refl, tt),
          ((frame-made (clause ∷ to) BlockStatement (made [] []) list refl refl refl, ((expression-keeps (made [] []) list clause to (error_stored c u) free, tt), tt)), tt),
        ),
      )

  finalizer-keeps : (us : Trees) (up : List Ancestor) → Keeps (ancestor TryStatement (made [] []) (in_try c u us) 2 0 ∷ up) (finalizer_of c)
  finalizer-keeps us up =
      let clause = ancestor TryStatement (made [] []) (in_try c u us) 2 0 in
      let call = method_call c (codes "d") [] in
      let list : Fields = statements (statement_node call before empty) then done in
      let there = ancestor ExpressionStatement (made [] []) (one call then done) 0 0 ∷ in_a_list (made [] []) list clause up in
      let free = free-call there (made [] (false ∷ [])) (member_node (identifier c) (codes "d")) empty refl (free-as true false there (member_node (identifier c) (codes "d")) (method-free there c (codes "d"))) (free-empty there) in
      (frame-made (clause ∷ up) BlockStatement (made [] []) list refl refl (try-rest (made [] []) (in_try c u us) 2 up (finalizer_of c)), ((expression-keeps (made [] []) list clause up call free, tt), tt))

  pub protected-keeps : (us : Trees) (up : List Ancestor) → KeepsHere up (protected c u us) → KeepsAll (inside_try c u us up) us → Keeps up (protected c u us)
  protected-keeps us up h k =
      (h, ((frame-made (ancestor TryStatement (made [] []) (in_try c u us) 0 0 ∷ up) BlockStatement (made [] []) (in_block c us) refl refl (try-rest (made [] []) (in_try c u us) 0 up (block_node (context_of c before us))), ((context-keeps us up, k), tt)), (handler-keeps us up, (finalizer-keeps us up, tt))))
