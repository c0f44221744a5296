-- Patterns with an object rest that move out of the heads of loops: the rules of places are kept.
use Rattle.std.proofs.Common.{◌≡◌, ℕ, zero, suc, refl, sym, ◌∙◌, List, [], ◌∷◌}
use Rattle.std.specs.Prelude.{Bool, true, false, not, ◌&&◌, ◌||◌, bytes_eq, codes, Some}
use Rattle.es_tree.specs.Ancestors.{Ancestor, ancestor, is_derived_constructor, leads_by, place_of}
use Rattle.es_tree.specs.HasForm.{has_form, same_type}
use Rattle.es_tree.specs.Names.{first_text}
use Rattle.es_tree.specs.Parens.{without_parens}
use Rattle.es_tree.specs.StaticRules.{is_bad_rest, is_bad_using, is_declaration, is_misplaced_super}
use Rattle.es_tree.specs.Tree.{Tree, node, Label, Fields, done, ◌then◌, missing, one, many, statements, Trees, empty, ◌before◌, kind_of}
use Rattle.es_tree.specs.Words.{Text}
use Rattle.es_tree.specs.declared.ast_type.AstType.{AstType}
use Rattle.es_tree.specs.declared.ast_type.AstType.TheVariants.{AssignmentExpression, BlockStatement, ExpressionStatement, ForInStatement, ForOfStatement, Identifier, ObjectTarget, RestElement, TargetRest, VariableDeclaration, VariableDeclarator}
use Rattle.es_tree.specs.CoreStaticRules.{is_name, is_simple_target, place_in}
use Rattle.es_tree.specs.declared.place.Place.{Place}
use Rattle.es_tree.specs.declared.place.Place.TheVariants.{Other}
use Rattle.es_tree.specs.declared.table.Sort.{Sort}
use Rattle.es_resolution.specs.Declarations.{Bound}
use Rattle.es_steps.specs.LoopHeads.{HeadRest, IsForEach, TargetHead, assigning_head, head_fields, new_head}
use Rattle.es_steps.specs.LoopHeads.HeadRest.{lexical_head, var_head}
use Rattle.es_steps.specs.LoopHeads.IsForEach.{for_in, for_of}
use Rattle.es_steps.specs.LoopHeads.TargetHead.{target_head}
use Rattle.es_steps.specs.Nodes.{assign_node, block_node, declaration_node, declarator, declarator_with, identifier, made, statement_node}
use Rattle.es_steps.specs.Patterns.{holds_rest}
use Rattle.es_steps.specs.Rules.{next_name}
use Rattle.es_steps.specs.Steps.{Ledger, Site}
use Rattle.es_steps.specs.Steps.Spot.{at_node}
use Rattle.es_steps.proofs.Heads.{head-only, target-only}
use Rattle.es_valid_steps.specs.PlaceRules.{Keeps, KeepsHere}
use Rattle.es_valid_steps.proofs.Free.{made-there}
use Rattle.es_valid_steps.proofs.Loose.{Loose, PlaceGoes, goes, loose}
use Rattle.es_valid_steps.proofs.Loose.PlaceGoes.{within}
use Rattle.es_valid_steps.proofs.Moves.{in-moved, keeps-moved, never-and, super-moved}
use Rattle.es_valid_steps.proofs.Offers.{Alike, Near, Offers, PlaceOffers, alike-self, near-self, near-within, offers-self, offers-within}
use Rattle.es_valid_steps.proofs.Offers.PlaceOffers.{same_place}
use Rattle.es_valid_rests.proofs.Faces.{face}
use Rattle.es_valid_rests.proofs.FacedSteps.{FaceLawful, NodeFaced}
use Rattle.es_valid_rests.proofs.RestForms.{IsObjectTarget, rest-target}
use Rattle.es_valid_rests.proofs.RestForms.IsObjectTarget.{object_target}
use Rattle.es_valid_rests.proofs.RestPlaces.{and-first, calm-again, calm-here, declarator-loose, is_calm, level-loose, name-keeps, no-rest}
use Rattle.es_valid_rests.proofs.RestPlaces.Still.{still_other}
use Rattle.es_valid_rests.proofs.RestPlacesEntered.{Reaches, enters}
use Rattle.es_valid_rests.proofs.RestPlacesMoved.{in_declaration, in_declarator, moved-keeps}

-- HEADS

-- a pattern with a rest is no name
pub no-name : (p : Tree) → holds_rest p ≡ true → is_name (Some p) ≡ false
no-name (node Identifier l fs) h = absurd (cc h)
no-name (node _ l fs) h = refl

module _ (m : Label) (kind : Text) (t u e b : Tree) (it : Bound) (up : List Ancestor) where
  abbrev old : Fields
  old = one t then one e then one b then done

  abbrev list : Trees
  list = u before b before empty

  abbrev new : Fields
  new = one (declaration_node kind (declarator it ∷ [])) then one e then one (block_node list) then done

  abbrev old_head : AstType → List Ancestor
  old_head k = ancestor k m old 0 0 ∷ up

  abbrev old_body : AstType → List Ancestor
  old_body k = ancestor k m old 2 0 ∷ up

  abbrev new_body : AstType → List Ancestor
  new_body k = ancestor k m new 2 0 ∷ up

  abbrev new_list : AstType → List Ancestor
  new_list k = ancestor BlockStatement (made [] []) (statements list then done) 0 0 ∷ (new_body k)

  -- a loop is no method
  no-constructor : (i : ℕ) (k : AstType) → IsForEach k → is_derived_constructor (ancestor k m old i 0 ∷ up) ≡ false
  no-constructor i k each = at k each up
    where
      at : (k : AstType) → IsForEach k → (up : List Ancestor) → is_derived_constructor (ancestor k m old i 0 ∷ up) ≡ false
      at k for_in [] = refl
      at k for_in (a ∷ up) = refl
      at k for_of [] = refl
      at k for_of (a ∷ up) = refl

  body-offers : (k : AstType) → IsForEach k → Offers true (old_body k) (new_list k)
  body-offers k for_in = record { labels = refl; loop = λ j h. h; breakable = λ j h. h; function = λ h. h; members = λ h. h; calls = λ h. h; targets = λ h. h; in_module = refl; method = λ h. absurd (cc h); constructor = λ h. absurd (let d = no-constructor 2 ForInStatement for_in in cc (d, h)); class = λ h. absurd (cc h) }
  body-offers k for_of = record { labels = refl; loop = λ j h. h; breakable = λ j h. h; function = λ h. h; members = λ h. h; calls = λ h. h; targets = λ h. h; in_module = refl; method = λ h. absurd (cc h); constructor = λ h. absurd (let d = no-constructor 2 ForOfStatement for_of in cc (d, h)); class = λ h. absurd (cc h) }

  body-reaches : (k : AstType) → IsForEach k → Reaches (old_body k) (new_list k)
  body-reaches k for_in = record { offers = body-offers ForInStatement for_in; place = refl; from_top = refl; top = refl; label = refl; for_in = refl; for_of = refl; exported = refl; lone = refl; rest = λ t. refl; inner_rest = λ a t. no-rest (leads_by RestElement 0 a) (not (same_type (kind_of t) Identifier)) (leads_by TargetRest 0 a) (not (is_simple_target (kind_of (without_parens t)))) ∙ sym (no-rest (leads_by RestElement 0 a) (not (same_type (kind_of t) Identifier)) (leads_by TargetRest 0 a) (not (is_simple_target (kind_of (without_parens t))))) }
  body-reaches k for_of = record { offers = body-offers ForOfStatement for_of; place = refl; from_top = refl; top = refl; label = refl; for_in = refl; for_of = refl; exported = refl; lone = refl; rest = λ t. refl; inner_rest = λ a t. no-rest (leads_by RestElement 0 a) (not (same_type (kind_of t) Identifier)) (leads_by TargetRest 0 a) (not (is_simple_target (kind_of (without_parens t)))) ∙ sym (no-rest (leads_by RestElement 0 a) (not (same_type (kind_of t) Identifier)) (leads_by TargetRest 0 a) (not (is_simple_target (kind_of (without_parens t))))) }

  head-alike : (k : AstType) → IsForEach k → Alike (ancestor k m old 1 0) (ancestor k m new 1 0)
  head-alike k for_in = record { kind = refl; label = refl; index = refl; labels = refl; derived = refl }
  head-alike k for_of = record { kind = refl; label = refl; index = refl; labels = refl; derived = refl }

  is-calm : (k : AstType) → IsForEach k → is_calm k ≡ true
  is-calm k for_in = refl
  is-calm k for_of = refl

  -- what stands in a loop is no part of a rest
  no-rest-here : (k : AstType) → IsForEach k → (i : ℕ) (t : Tree) → is_bad_rest (ancestor k m new i 0 ∷ up) t ≡ false
  no-rest-here k each i t = at k each up
    where
      at : (k : AstType) → IsForEach k → (up : List Ancestor) → is_bad_rest (ancestor k m new i 0 ∷ up) t ≡ false
      at k for_in [] = refl
      at k for_in (a ∷ up) = refl
      at k for_of [] = refl
      at k for_of (a ∷ up) = refl

  -- `K x` in the head
  abbrev head_declaration : Fields
  head_declaration = many (declarator it before empty) then done

  abbrev in_head : AstType → List Ancestor
  in_head k = ancestor VariableDeclaration (made (Some kind ∷ []) []) head_declaration 0 0 ∷ (ancestor k m new 0 0 ∷ up)

  abbrev in_its_declarator : AstType → List Ancestor
  in_its_declarator k = ancestor VariableDeclarator (made [] []) (one (identifier it) then missing then done) 0 0 ∷ in_head k

  name-in-head : (k : AstType) → IsForEach k → Keeps (in_its_declarator k) (identifier it)
  name-in-head k for_in = name-keeps (in_its_declarator ForInStatement) it (declarator-loose (made [] []) (one (identifier it) then missing then done) 0 (in_head ForInStatement)) still_other
  name-in-head k for_of = name-keeps (in_its_declarator ForOfStatement) it (declarator-loose (made [] []) (one (identifier it) then missing then done) 0 (in_head ForOfStatement)) still_other

  declarator-in-head : (k : AstType) → IsForEach k → KeepsHere (in_head k) (declarator it)
  declarator-in-head k for_in = record { jump = refl; label = refl; returned = refl; super_word = refl; target = refl; chain = refl; mark = refl; deleted = refl; value = refl; using_word = refl; head = refl; item = refl; accessor = refl; rest = refl; declaration = refl; meta = refl }
  declarator-in-head k for_of = record { jump = refl; label = refl; returned = refl; super_word = refl; target = refl; chain = refl; mark = refl; deleted = refl; value = refl; using_word = refl; head = refl; item = refl; accessor = refl; rest = refl; declaration = refl; meta = refl }

  head-here : (k : AstType) → IsForEach k → bytes_eq kind (codes "using") ≡ false → KeepsHere (ancestor k m new 0 0 ∷ up) (node VariableDeclaration (made (Some kind ∷ []) []) head_declaration)
  head-here k for_in u = record { jump = refl; label = refl; returned = refl; super_word = refl; target = refl; chain = refl; mark = refl; deleted = refl; value = refl; using_word = and-first (bytes_eq kind (codes "using")) true u; head = refl; item = refl; accessor = refl; rest = no-rest-here ForInStatement for_in 0 (node VariableDeclaration (made (Some kind ∷ []) []) head_declaration); declaration = never-and (is_declaration VariableDeclaration (made (Some kind ∷ []) [])) false refl; meta = refl }
  head-here k for_of u = record { jump = refl; label = refl; returned = refl; super_word = refl; target = refl; chain = refl; mark = refl; deleted = refl; value = refl; using_word = and-first (bytes_eq kind (codes "using")) false u; head = refl; item = refl; accessor = refl; rest = no-rest-here ForOfStatement for_of 0 (node VariableDeclaration (made (Some kind ∷ []) []) head_declaration); declaration = never-and (is_declaration VariableDeclaration (made (Some kind ∷ []) [])) false refl; meta = refl }

  super-stays : (k : AstType) → IsForEach k → is_misplaced_super (old_body k) b ≡ false → is_misplaced_super (new_list k) b ≡ false
  super-stays k for_in = super-moved (old_body ForInStatement) (new_list ForInStatement) true (body-offers ForInStatement for_in) (λ x. x) (λ x. x) b
  super-stays k for_of = super-moved (old_body ForOfStatement) (new_list ForOfStatement) true (body-offers ForOfStatement for_of) (λ x. x) (λ x. x) b

  block-place : (k : AstType) → IsForEach k → KeepsHere (new_body k) (block_node list)
  block-place k for_in = calm-here (new_body ForInStatement) BlockStatement (made [] []) (statements list then done) refl refl (no-rest-here ForInStatement for_in 2 (block_node list)) refl
  block-place k for_of = calm-here (new_body ForOfStatement) BlockStatement (made [] []) (statements list then done) refl refl (no-rest-here ForOfStatement for_of 2 (block_node list)) refl

  for-each-keeps : {k : AstType} → IsForEach k → bytes_eq kind (codes "using") ≡ false → (Keeps (old_head k) t → Keeps (new_list k) u) → Keeps up (node k m old) → Keeps up (node k m new)
  for-each-keeps {k} each not_using moves h =
      let alike = head-alike k each in
      let value = keeps-moved true (ancestor k m old 1 0 ∷ up) (ancestor k m new 1 0 ∷ up) e (offers-within true up up (ancestor k m old 1 0) (ancestor k m new 1 0) alike (offers-self up) (λ d. absurd (cc d))) (near-within up up (ancestor k m old 1 0) (ancestor k m new 1 0) alike (near-self up)) (λ d. absurd (cc d)) h.1.1.0 in
      let body = enters (old_body k) (new_list k) (body-reaches k each) b (super-stays k each) h.1.1.1.0 in
      (calm-again up k m m old new (is-calm k each) h.0, ((head-here k each not_using, (((declarator-in-head k each, (name-in-head k each, (tt, tt))), tt), tt)), (value, ((block-place k each, ((moves h.1.0, (body, tt)), tt)), tt))))

-- DECLARATIONS

module _ (m l l' : Label) (p e b : Tree) (it : Bound) (up : List Ancestor) where
  abbrev word : Text
  word = first_text l.texts

  abbrev old_declarator : Fields
  old_declarator = one p then missing then done

  abbrev old_declaration : Fields
  old_declaration = many (node VariableDeclarator l' old_declarator before empty) then done

  abbrev head : Tree
  head = node VariableDeclaration l old_declaration

  abbrev first : Tree
  first = declaration_node word (declarator_with p (identifier it) ∷ [])

  abbrev in_declared : AstType → List Ancestor
  in_declared k = ancestor VariableDeclaration l old_declaration 0 0 ∷ old_head m word head first e b it up k

  abbrev old_pattern : AstType → List Ancestor
  old_pattern k = ancestor VariableDeclarator l' old_declarator 0 0 ∷ in_declared k

  abbrev in_list : AstType → List Ancestor
  in_list k = new_list m word head first e b it up k

  abbrev new_pattern : AstType → List Ancestor
  new_pattern k = in_declarator word p it 0 (in_list k)

  pattern-offers : (k : AstType) → IsForEach k → Offers true (old_pattern k) (new_pattern k)
  pattern-offers k for_in = record { labels = refl; loop = λ j h. h; breakable = λ j h. h; function = λ h. h; members = λ h. h; calls = λ h. h; targets = λ h. h; in_module = refl; method = λ h. absurd (cc h); constructor = λ h. absurd (cc h); class = λ h. absurd (cc h) }
  pattern-offers k for_of = record { labels = refl; loop = λ j h. h; breakable = λ j h. h; function = λ h. h; members = λ h. h; calls = λ h. h; targets = λ h. h; in_module = refl; method = λ h. absurd (cc h); constructor = λ h. absurd (cc h); class = λ h. absurd (cc h) }

  pattern-place : (k : AstType) → IsForEach k → PlaceGoes p (place_of (old_pattern k)) (place_of (new_pattern k))
  pattern-place k for_in = within (same_place Other)
  pattern-place k for_of = within (same_place Other)

  pattern-super : (k : AstType) → IsForEach k → is_misplaced_super (old_pattern k) p ≡ false → is_misplaced_super (new_pattern k) p ≡ false
  pattern-super k for_in = super-moved (old_pattern ForInStatement) (new_pattern ForInStatement) true (pattern-offers ForInStatement for_in) (λ x. x) (λ x. x) p
  pattern-super k for_of = super-moved (old_pattern ForOfStatement) (new_pattern ForOfStatement) true (pattern-offers ForOfStatement for_of) (λ x. x) (λ x. x) p

  not-name : (b c x y z w : Bool) → c ≡ false → (b && ((not c || w) || x || y || z)) ≡ false → b ≡ false
  not-name true true x y z w e h = absurd (cc e)
  not-name true false x y z w e h = absurd (cc h)
  not-name false c x y z w e h = refl

  not-using : (k : AstType) → IsForEach k → holds_rest p ≡ true → is_bad_using (old_head m word head first e b it up k) head ≡ false → bytes_eq word (codes "using") ≡ false
  not-using k for_in holds h = not-name (bytes_eq word (codes "using")) (is_name (Some p)) false true false false (no-name p holds) h
  not-using k for_of holds h = not-name (bytes_eq word (codes "using")) (is_name (Some p)) false false false false (no-name p holds) h

  declared-keeps : {k : AstType} → IsForEach k → holds_rest p ≡ true → Keeps up (node k m (head_fields l l' p e b)) → Keeps up (node k m (new_head word it p e b))
  declared-keeps {k} each holds h =
      let u = not-using k each holds h.1.0.0.using_word in
      let from_pattern = declarator-loose l' old_declarator 0 (in_declared k) in
      let to_pattern = declarator-loose (made [] []) (one p then one (identifier it) then done) 0 (in_declaration word p it (in_list k)) in
      let pattern = goes (old_pattern k) (new_pattern k) from_pattern to_pattern true (pattern-offers k each) p (pattern-super k each) (pattern-place k each) (λ d. absurd (cc d)) h.1.0.1.0.0.1.0 in
      let loose_list = loose (made [] []) (statements (first before b before empty) then done) 0 0 (new_body m word head first e b it up k) BlockStatement refl in
      for-each-keeps m word head first e b it up each u (λ d. moved-keeps word p it (in_list k) loose_list still_other u pattern) h

-- TARGETS

module _ (m l : Label) (fs : Fields) (e b : Tree) (it : Bound) (up : List Ancestor) where
  abbrev target : Tree
  target = node ObjectTarget l fs

  abbrev assigned : Fields
  assigned = one target then one (identifier it) then done

  abbrev stated : Fields
  stated = one (assign_node target (identifier it)) then done

  abbrev statement : Tree
  statement = statement_node (assign_node target (identifier it))

  abbrev in_head_of : AstType → List Ancestor
  in_head_of k = old_head m (codes "var") target statement e b it up k

  abbrev in_list_of : AstType → List Ancestor
  in_list_of k = new_list m (codes "var") target statement e b it up k

  abbrev in_statement : AstType → List Ancestor
  in_statement k = ancestor ExpressionStatement (made [] []) stated 0 0 ∷ in_list_of k

  abbrev in_assigned : ℕ → AstType → List Ancestor
  in_assigned i k = ancestor AssignmentExpression (made (Some (codes "=") ∷ []) []) assigned i 0 ∷ in_statement k

  target-offers : (k : AstType) → IsForEach k → Offers true (in_head_of k) (in_assigned 0 k)
  target-offers k for_in = record { labels = refl; loop = λ j h. h; breakable = λ j h. h; function = λ h. h; members = λ h. h; calls = λ h. h; targets = λ h. h; in_module = refl; method = λ h. absurd (cc h); constructor = λ h. absurd (let d = no-constructor m (codes "var") target statement e b it up 0 ForInStatement for_in in cc (d, h)); class = λ h. absurd (cc h) }
  target-offers k for_of = record { labels = refl; loop = λ j h. h; breakable = λ j h. h; function = λ h. h; members = λ h. h; calls = λ h. h; targets = λ h. h; in_module = refl; method = λ h. absurd (cc h); constructor = λ h. absurd (let d = no-constructor m (codes "var") target statement e b it up 0 ForOfStatement for_of in cc (d, h)); class = λ h. absurd (cc h) }

  -- wherever a target stands
  part-place : (p q : Place) (j : ℕ) → PlaceOffers (place_in p ObjectTarget l j) (place_in q ObjectTarget l j)
  part-place p q zero = same_place Other
  part-place p q (suc zero) = same_place Other
  part-place p q (suc (suc j)) = same_place Other

  assigned-loose : (i : ℕ) (k : AstType) → Loose (in_assigned i k)
  assigned-loose i k = loose (made (Some (codes "=") ∷ []) []) assigned i 0 (in_statement k) AssignmentExpression refl

  target-keeps : (k : AstType) → IsForEach k → Keeps (in_head_of k) target → Keeps (in_assigned 0 k) target
  target-keeps k each h =
      let offers : (j : ℕ) → Offers true (ancestor ObjectTarget l fs j 0 ∷ in_head_of k) (ancestor ObjectTarget l fs j 0 ∷ in_assigned 0 k) = λ j. offers-within true (in_head_of k) (in_assigned 0 k) (ancestor ObjectTarget l fs j 0) (ancestor ObjectTarget l fs j 0) (alike-self _) (target-offers k each) (λ d. absurd (cc d)) in
      let near : (j : ℕ) → Near (ancestor ObjectTarget l fs j 0 ∷ in_head_of k) (ancestor ObjectTarget l fs j 0 ∷ in_assigned 0 k) = λ j. record { place = part-place (place_of (in_head_of k)) (place_of (in_assigned 0 k)) j; head = alike-self _; rest = λ y. refl } in
      (calm-here (in_assigned 0 k) ObjectTarget l fs refl refl ((assigned-loose 0 k).rest target) refl, in-moved true (in_head_of k) (in_assigned 0 k) ObjectTarget l fs fs 0 fs offers near (λ d. absurd (cc d)) h.1)

  statement-keeps : (k : AstType) → IsForEach k → Keeps (in_head_of k) target → Keeps (in_list_of k) statement
  statement-keeps k each h =
      let loose_list = loose (made [] []) (statements (statement before b before empty) then done) 0 0 (new_body m (codes "var") target statement e b it up k) BlockStatement refl in
      let loose_statement = level-loose ExpressionStatement (made [] []) stated 0 (in_list_of k) refl in
      let here = calm-here (in_list_of k) ExpressionStatement (made [] []) stated refl refl (loose_list.rest statement) refl in
      let inside = made-there (in_statement k) AssignmentExpression (made (Some (codes "=") ∷ []) []) assigned loose_statement refl refl refl refl in
      (here, ((inside, (target-keeps k each h, (name-keeps (in_assigned 1 k) it (assigned-loose 1 k) still_other, tt))), tt))

assigned-keeps : {k : AstType} → IsForEach k → (m : Label) (t e b : Tree) (it : Bound) (up : List Ancestor) → IsObjectTarget t → Keeps up (node k m (one t then one e then one b then done)) → Keeps up (node k m (assigning_head it t e b))
assigned-keeps {k} each m t e b it up (object_target {l = l} {fs = fs}) h = for-each-keeps m (codes "var") t (statement_node (assign_node t (identifier it))) e b it up each refl (statement-keeps m l fs e b it up k each) h

each-seen : (k : AstType) (m : Label) (fs gs : Fields) → IsForEach k → face (node k m fs) ≡ face (node k m gs)
each-seen k m fs gs for_in = refl
each-seen k m fs gs for_of = refl

pub head-rest-faced : FaceLawful HeadRest
head-rest-faced = record { at_nodes = head-only; leaves = leaves }
  where
    leaves : (n : Site) (s s' : Ledger) (t u : Tree) (a : Sort) (up : List Ancestor) → HeadRest n s (at_node t) s' (at_node u) → has_form a t ≡ true → Keeps up t → NodeFaced up s s' t u
    leaves n s s' t u a up (lexical_head {w = w} {k = k} {m = m} {l = l} {l' = l'} {p = p} {e = e} {b = b} {x = x} each holds fresh lexical apart silent body) f h = record { keeps = declared-keeps m l l' p e b (next_name w x) up each holds h; seen = each-seen k m (head_fields l l' p e b) (new_head (first_text l.texts) (next_name w x) p e b) each; beside = record { pending = refl; this = refl; top = refl } }
    leaves n s s' t u a up (var_head {w = w} {k = k} {m = m} {l = l} {l' = l'} {p = p} {e = e} {b = b} {x = x} each holds fresh variable none silent body) f h = record { keeps = declared-keeps m l l' p e b (next_name w x) up each holds h; seen = each-seen k m (head_fields l l' p e b) (new_head (first_text l.texts) (next_name w x) p e b) each; beside = record { pending = refl; this = refl; top = refl } }

pub target-head-faced : FaceLawful TargetHead
target-head-faced = record { at_nodes = target-only; leaves = leaves }
  where
    leaves : (n : Site) (s s' : Ledger) (t u : Tree) (a : Sort) (up : List Ancestor) → TargetHead n s (at_node t) s' (at_node u) → has_form a t ≡ true → Keeps up t → NodeFaced up s s' t u
    leaves n s s' t u a up (target_head {w = w} {k = k} {m = m} {t = p} {e = e} {b = b} {x = x} each rest fresh silent quiet body) f h = record { keeps = assigned-keeps each m p e b (next_name w x) up (rest-target p rest) h; seen = each-seen k m (one p then one e then one b then done) (assigning_head (next_name w x) p e b) each; beside = record { pending = refl; this = refl; top = refl } }
