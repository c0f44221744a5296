-- Object rests that are taken in a declaration: the rules of places are kept.
use Rattle.std.proofs.Common.{◌≡◌, refl, ap, List, [], ◌∷◌, map}
use Rattle.std.specs.Prelude.{Bool, true, false, not, ◌&&◌, ◌||◌, bytes_eq, codes, Some}
use Rattle.es_tree.specs.Ancestors.{Ancestor, ancestor, is_script_top, place_of, stands_in}
use Rattle.es_tree.specs.CoreStaticRules.{is_bad_target}
use Rattle.es_tree.specs.HasForm.{has_form}
use Rattle.es_tree.specs.Names.{first_text}
use Rattle.es_tree.specs.StaticRules.{binds_name, has_pattern, has_value, is_bad_for, is_bad_rest, is_bad_using, is_lone_declarator}
use Rattle.es_tree.specs.Tree.{Tree, node, Label, Fields, done, ◌then◌, one, many, Trees, empty, ◌before◌, kind_of}
use Rattle.es_tree.specs.declared.ast_type.AstType.TheVariants.{ExportNamedDeclaration, ForInStatement, ForOfStatement, Identifier, ObjectPattern, RestElement, StringLiteral, VariableDeclaration, VariableDeclarator}
use Rattle.es_tree.specs.declared.place.Place.{Place}
use Rattle.es_tree.specs.declared.place.Place.TheVariants.{Target}
use Rattle.es_tree.specs.declared.table.Sort.{Sort}
use Rattle.es_steps.specs.Nodes.{declarator_with, joined_trees, made, string_node}
use Rattle.es_steps.specs.ObjectRest.{AreKeys, IsKey, RestOf, TakesRest, and_declarator, declares_as, declares_rest, pattern_node}
use Rattle.es_steps.specs.ObjectRest.IsKey.{name_key, text_key}
use Rattle.es_steps.specs.ObjectRest.RestOf.{alone, beside, mapped}
use Rattle.es_steps.specs.ObjectRest.TakesRest.{takes_rest}
use Rattle.es_steps.specs.Steps.{Ledger, Site}
use Rattle.es_steps.specs.Steps.Spot.{at_node}
use Rattle.es_steps.proofs.Fronts.{Front, front-of}
use Rattle.es_steps.proofs.Fronts.Front.{of_none, of_some}
use Rattle.es_steps.proofs.RestParts.{EachTree}
use Rattle.es_steps.proofs.TakesRest.{texts-are-keys}
use Rattle.es_valid_steps.specs.PlaceRules.{Keeps, KeepsAll, KeepsHere}
use Rattle.es_valid_steps.proofs.Free.{Free, unmarked}
use Rattle.es_valid_steps.proofs.Free.Under.{itself as itself_under}
use Rattle.es_valid_steps.proofs.Loose.OpenPlace.{at_other}
use Rattle.es_valid_steps.proofs.MadeNodes.{free-leaf, free-name}
use Rattle.es_valid_steps.proofs.Offers.{Alike, near-self, offers-self}
use Rattle.es_valid_steps.proofs.RestAssignmentPlaces.{left-of-free, whole-free}
use Rattle.es_valid_rests.specs.RestRules.{Binding, is_binding_kind}
use Rattle.es_valid_rests.proofs.FacedSteps.{FaceLawful, NodeFaced}
use Rattle.es_valid_rests.proofs.RestFormsDeclared.{last-kind, takes-nodes}
use Rattle.es_valid_rests.proofs.RestPlaces.{and-first, declarator-loose, declarator-target, level-loose, valued-here}
use Rattle.es_valid_rests.proofs.RestPlacesFunctions.{all-again, all-joined, all-parts}
use Rattle.es_valid_rests.proofs.RestPlacesPatterns.{binding-goes, clear-offers, declarator-goes, members-go, pattern-here}
use Rattle.es_valid_rests.proofs.RestPlacesPatterns.Clear.{itself, deeper}

-- A DECLARATION with a pattern that has a value

or-right : (b c : Bool) → c ≡ true → (b || c) ≡ true
or-right true c e = refl
or-right false c e = e

-- one of the declarators binds a pattern
some-pattern : (a : Trees) (d : Tree) (c : Trees) → binds_name d ≡ false → has_pattern (joined_trees a (d before c)) ≡ true
some-pattern empty d c e = ap (λ b. not b || has_pattern c) e
some-pattern (x before a) d c e = or-right (not (binds_name x)) (has_pattern (joined_trees a (d before c))) (some-pattern a d c e)

-- so the declaration is no head of a for-in or for-of
no-lone : (a : Trees) (d : Tree) (c : Trees) → has_value d ≡ true → is_lone_declarator (joined_trees a (d before c)) ≡ false
no-lone empty d empty e = ap (λ b. not b) e
no-lone empty d (x before c) e = refl
no-lone (x before empty) d c e = refl
no-lone (x before (y before a)) d c e = refl

word-of : (b c x y z : Bool) → c ≡ true → (b && (c || x || y || z)) ≡ false → b ≡ false
word-of true true x y z e h = absurd (cc h)
word-of true false x y z e h = absurd (cc e)
word-of false c x y z e h = refl

head-of : (b c : Bool) → c ≡ false → (b && not c) ≡ false → b ≡ false
head-of true true e h = absurd (cc e)
head-of true false e h = absurd (cc h)
head-of false c e h = refl

module _ (up : List Ancestor) (m : Label) (a : Trees) (d : Tree) (c : Trees) (pattern : binds_name d ≡ false) (valued : has_value d ≡ true) where
  abbrev old : Fields
  old = many (joined_trees a (d before c)) then done

  no-using : is_bad_using up (node VariableDeclaration m old) ≡ false → bytes_eq (first_text m.texts) (codes "using") ≡ false
  no-using h = word-of (bytes_eq (first_text m.texts) (codes "using")) (has_pattern (joined_trees a (d before c))) (is_script_top up) (stands_in ForInStatement 0 up) (stands_in ExportNamedDeclaration 0 up) (some-pattern a d c pattern) h

  no-head : is_bad_for up (node VariableDeclaration m old) ≡ false → (stands_in ForInStatement 0 up || stands_in ForOfStatement 0 up) ≡ false
  no-head h = head-of (stands_in ForInStatement 0 up || stands_in ForOfStatement 0 up) (is_lone_declarator (joined_trees a (d before c))) (no-lone a d c valued) h

  target-same : (p : Place) (ds : Trees) → is_bad_target p (node VariableDeclaration m old) ≡ false → is_bad_target p (node VariableDeclaration m (many ds then done)) ≡ false
  target-same (Target s) ds h = h
  target-same _ ds h = refl

  rest-same : (up : List Ancestor) (ds : Trees) → is_bad_rest up (node VariableDeclaration m old) ≡ false → is_bad_rest up (node VariableDeclaration m (many ds then done)) ≡ false
  rest-same [] ds h = refl
  rest-same (b ∷ []) ds h = refl
  rest-same (b ∷ (e ∷ up)) ds h = h

  pub declares-again : (ds : Trees) → KeepsHere up (node VariableDeclaration m old) → KeepsHere up (node VariableDeclaration m (many ds then done))
  declares-again ds h = record {
    jump = refl;
    label = refl;
    returned = refl;
    super_word = refl;
    target = target-same (place_of up) ds h.target;
    chain = refl;
    mark = unmarked (place_of up) VariableDeclaration m (many ds then done) refl;
    deleted = refl;
    value = refl;
    using_word = and-first (bytes_eq (first_text m.texts) (codes "using")) (has_pattern ds || is_script_top up || stands_in ForInStatement 0 up || stands_in ExportNamedDeclaration 0 up) (no-using h.using_word);
    head = and-first (stands_in ForInStatement 0 up || stands_in ForOfStatement 0 up) (not (is_lone_declarator ds)) (no-head h.head);
    item = refl;
    accessor = refl;
    rest = rest-same up ds h.rest;
    declaration = h.declaration;
    meta = refl;
  }

-- THE DECLARATORS around the one that goes, and what comes for it

declaration-alike : (m : Label) (fs gs : Fields) → Alike (ancestor VariableDeclaration m fs 0 0) (ancestor VariableDeclaration m gs 0 0)
declaration-alike m fs gs = record { kind = refl; label = refl; index = refl; labels = refl; derived = refl }

pub record DeclaratorsLeft (up : List Ancestor) (m : Label) (d : Tree) (es : Trees) : Type 0 where
  pub pattern : binds_name d ≡ false
  pub valued : has_value d ≡ true
  -- in whatever declaration
  pub left : (fs : Fields) → Keeps (ancestor VariableDeclaration m fs 0 0 ∷ up) d → KeepsAll (ancestor VariableDeclaration m fs 0 0 ∷ up) es

pub declared-keeps : (up : List Ancestor) (m : Label) (a c : Trees) (d : Tree) (es : Trees) → DeclaratorsLeft up m d es → Keeps up (node VariableDeclaration m (many (joined_trees a (d before c)) then done)) → Keeps up (node VariableDeclaration m (many (joined_trees a (joined_trees es c)) then done))
declared-keeps up m a c d es r h =
    let before_it : Fields = many (joined_trees a (d before c)) then done in
    let after_it : Fields = many (joined_trees a (joined_trees es c)) then done in
    let there = ancestor VariableDeclaration m after_it 0 0 ∷ up in
    let all = all-again up up (ancestor VariableDeclaration m before_it 0 0) (ancestor VariableDeclaration m after_it 0 0) (declaration-alike m before_it after_it) (offers-self up) (near-self up) (joined_trees a (d before c)) h.1.0 in
    let parts = all-parts there a (d before c) all in
    (declares-again up m a d c r.pattern r.valued (joined_trees a (joined_trees es c)) h.0, (all-joined there a (joined_trees es c) parts.0 (all-joined there es c (r.left after_it parts.1.0) parts.1.1), tt))

-- THE VALUE of a rest, as a declarator's

module _ (l : Label) (fs : Fields) (vp : List Ancestor) where
  abbrev at_value : List Ancestor
  at_value = ancestor VariableDeclarator l fs 1 0 ∷ vp

  keys-free : (ds : Trees) (ks : List Tree) → AreKeys ds ks → EachTree (Free at_value) ks
  keys-free ds [] h = tt
  keys-free ds (k ∷ ks) h = (at k h.0, keys-free ds ks h.1)
    where
      at : (k : Tree) → IsKey ds k → Free at_value k
      at k (text_key x) = free-leaf at_value StringLiteral (made (Some x ∷ []) []) refl refl refl
      at k (name_key m lp lq lk xs ys a c v e d computed) = free-name at_value lk

  value-free : (ds : Trees) (lp ls : Label) (ps gs : Trees) (e : Tree) → RestOf ds lp (node Identifier ls done) ps gs e → Free at_value e
  value-free ds lp ls ps gs e (beside ks) = left-of-free at_value false (node Identifier ls done) (map string_node ks) (free-name at_value ls) (keys-free ds (map string_node ks) (texts-are-keys ds ks))
  value-free ds lp ls ps gs e (mapped ks h) = left-of-free at_value true (node Identifier ls done) ks (free-name at_value ls) (keys-free ds ks h)
  value-free ds lp ls ps gs e alone = whole-free at_value (node Identifier ls done) (free-name at_value ls)

  value-keeps : (ds : Trees) (lp ls : Label) (ps gs : Trees) (e : Tree) → RestOf ds lp (node Identifier ls done) ps gs e → Keeps at_value e
  value-keeps ds lp ls ps gs e r = value-free ds lp ls ps gs e r at_value (record { under = itself_under; is_loose = declarator-loose l fs 1 vp; place = at_other })

-- A REST

pub front-keeps : (up : List Ancestor) (lp : Label) (s : Tree) (ps fs : Trees) → Front lp s ps fs → Keeps up (declarator_with (pattern_node lp ps) s) → KeepsAll up fs
front-keeps up lp s ps fs of_some h = (h, tt)
front-keeps up lp s ps fs of_none h = tt

pub takes-faced : FaceLawful (Binding TakesRest)
takes-faced = record { at_nodes = takes-nodes; leaves = leaves }
  where
    left : (ds : Trees) (m l lp lr ls : Label) (ps fs : Trees) (v e : Tree) (up : List Ancestor) → RestOf ds lp (node Identifier ls done) ps fs e → is_binding_kind (kind_of v) ≡ true → DeclaratorsLeft up m (declares_as l (pattern_node lp (joined_trees ps (node RestElement lr (one v then done) before empty))) (node Identifier ls done)) (and_declarator fs v e)
    left ds m l lp lr ls ps gs v e up r kind = record { pattern = refl; valued = refl; left = there }
      where
        there : (fs : Fields) → Keeps (ancestor VariableDeclaration m fs 0 0 ∷ up) (declares_as l (pattern_node lp (joined_trees ps (node RestElement lr (one v then done) before empty))) (node Identifier ls done)) → KeepsAll (ancestor VariableDeclaration m fs 0 0 ∷ up) (and_declarator gs v e)
        there fs h =
            let it : Tree = node Identifier ls done in
            let rest : Tree = node RestElement lr (one v then done) in
            let all : Trees = joined_trees ps (rest before empty) in
            let vp = ancestor VariableDeclaration m fs 0 0 ∷ up in
            let old : Fields = one (pattern_node lp all) then one it then done in
            let new : Fields = one (pattern_node lp ps) then one it then done in
            let last : Fields = one v then one e then done in
            let from = ancestor VariableDeclarator l old 0 0 ∷ vp in
            let to = ancestor VariableDeclarator (made [] []) new 0 0 ∷ vp in
            let in_old = ancestor ObjectPattern lp (many all then done) 0 0 ∷ from in
            let parts = all-parts in_old ps (rest before empty) h.1.0.1.0 in
            let list = level-loose VariableDeclaration m fs 0 up refl in
            let members = members-go vp from to (deeper refl itself) (deeper refl itself) lp lp (many all then done) (many ps then done) ps parts.0 in
            let value = declarator-goes up m fs l (made [] []) old new 1 it h.1.1.0 in
            let offers = clear-offers vp in_old (ancestor VariableDeclarator (made [] []) last 0 0 ∷ vp) RestElement lr (one v then done) 0 refl (deeper refl (deeper refl itself)) (deeper refl itself) in
            let taken = binding-goes (made [] []) last (ancestor RestElement lr (one v then done) 0 0 ∷ in_old) vp offers v kind parts.1.0.1.0 in
            all-joined vp gs (declarator_with v e before empty)
            (front-keeps vp lp it ps gs (front-of ds lp it ps gs e r) (valued-here vp (made [] []) (pattern_node lp ps) it list (declarator-target (place_of up) (first_text m.texts) (declarator_with (pattern_node lp ps) it)), ((pattern-here (made [] []) new vp lp (many ps then done), (members, tt)), (value, tt))))
            ((valued-here vp (made [] []) v e list (declarator-target (place_of up) (first_text m.texts) (declarator_with v e)), (taken, (value-keeps (made [] []) last vp ds lp ls ps gs e r, tt))), tt)

    leaves : (n : Site) (s s' : Ledger) (t u : Tree) (a : Sort) (up : List Ancestor) → Binding TakesRest n s (at_node t) s' (at_node u) → has_form a t ≡ true → Keeps up t → NodeFaced up s s' t u
    leaves n s s' t u g up (takes_rest {fs = fs} {e = e} m l lp lr ls a ps c v r unbound used, binds) f h =
        record {
          keeps = declared-keeps up m a c (declares_as l (pattern_node lp (joined_trees ps (node RestElement lr (one v then done) before empty))) (node Identifier ls done)) (and_declarator fs v e) (left (joined_trees a (declares_rest l lp ps lr v (node Identifier ls done) before empty)) m l lp lr ls ps fs v e up r (last-kind a fs c v e binds)) h;
          seen = refl;
          beside = record { pending = refl; this = refl; top = refl };
        }
