-- What `for (using a of b)` becomes, a loop over a constant with `using` in its block, has form and keeps the static rules of places.
use Rattle.std.proofs.Common.{◌≡◌, ℕ, inr, refl, ap, List, [], ◌∷◌}
use Rattle.std.specs.Prelude.{◌⊎◌, Bool, true, false, not, ◌&&◌, ◌||◌, bytes_eq, Some, codes}
use Rattle.std.proofs.lemmas.Bool.{and_from}
use Rattle.es_tree.specs.Ancestors.{Ancestor, ancestor, is_labeled_loop, place_of}
use Rattle.es_tree.specs.CoreStaticRules.{is_bad_target, is_name}
use Rattle.es_tree.specs.HasForm.{has_form}
use Rattle.es_tree.specs.Names.{first_text}
use Rattle.es_tree.specs.StaticRules.{is_bad_for, is_bad_rest, is_bad_using, is_declaration, is_duplicate_label, is_lone_body}
use Rattle.es_tree.specs.Tree.{Tree, node, Label, Fields, done, ◌then◌, missing, one, many, statements, Trees, empty, ◌before◌, kind_of, label_of}
use Rattle.es_tree.specs.declared.ast_type.AstType.TheVariants.{BlockStatement, ForOfStatement, Identifier, VariableDeclaration, VariableDeclarator}
use Rattle.es_tree.specs.declared.place.Place.TheVariants.{Other}
use Rattle.es_tree.specs.declared.table.Sort.{Sort}
use Rattle.es_tree.specs.declared.table.Sort.TheVariants.{Binding as s-Binding, Expression as s-Expression, ForLeft as s-ForLeft, Statement as s-Statement, VariableDeclarator as s-VariableDeclarator}
use Rattle.es_tree.proofs.NodeForm.{node_form, has_form-node}
use Rattle.es_resolution.specs.Declarations.{Bound}
use Rattle.es_steps.specs.LoopHeads.{head_fields}
use Rattle.es_steps.specs.Nodes.{block_node, declaration_node, declarator_with, identifier, made}
use Rattle.es_steps.specs.Open.{is_import}
use Rattle.es_steps.specs.Rules.{next_name}
use Rattle.es_steps.specs.Steps.{Ledger, Site, Spot}
use Rattle.es_steps.specs.Steps.Spot.{at_node}
use Rattle.es_steps.specs.UsingLoops.{HeadUsing, block_head}
use Rattle.es_steps.specs.UsingLoops.HeadUsing.{of_head}
use Rattle.es_steps.proofs.FormLists.{first-formed}
use Rattle.es_steps.proofs.FormMembers.{formed-first}
use Rattle.es_steps.proofs.FormParts.{IsText, and-left, and-right, formed-name, no-span}
use Rattle.es_steps.proofs.FormRows.{next-text}
use Rattle.es_steps.proofs.FormRules.{AtNodes}
use Rattle.es_valid_steps.specs.PlaceRules.{Keeps, KeepsHere}
use Rattle.es_valid_steps.proofs.Changed.{Changed}
use Rattle.es_valid_steps.proofs.Free.{made-there}
use Rattle.es_valid_steps.proofs.Loose.{Loose, loose}
use Rattle.es_valid_steps.proofs.Moves.{in-moved, jump-moved, meta-moved, never-and, return-moved, super-moved}
use Rattle.es_valid_steps.proofs.Offers.{Alike, Near, Offers, alike-self, near-self, near-within, offers-self, offers-within}
use Rattle.es_valid_steps.proofs.Offers.PlaceOffers.{same_place}
use Rattle.es_valid_using.proofs.Frames.{frame-alike, frame-here, frame-made, no-constructor, no-rest}
use Rattle.es_valid_using.proofs.UsingMoves.{SameBeside}
use Rattle.es_valid_using.proofs.UsingPlaces.{declarator-here, declarator-loose}
use Rattle.es_valid_using.proofs.UsingTrees.{Framed, UsingLawful}

-- FORM

binding-form : (y : Bound) → IsText y → has_form s-Binding (identifier y) ≡ true
binding-form y h = rw h refl

abbrev using_statement : Tree → Bound → Tree
using_statement x y = declaration_node (codes "using") (declarator_with x (identifier y) ∷ [])

module _ (y : Bound) (h : IsText y) where
  statement-form : (x : Tree) → has_form s-Binding x ≡ true → has_form s-Statement (using_statement x y) ≡ true
  statement-form x f =
      let span = no-span [] [] in
      let word_span = no-span (Some (codes "using") ∷ []) [] in
      let new : Fields = one x then one (identifier y) then done in
      let d = has_form-node s-VariableDeclarator VariableDeclarator (made [] []) new (record { sort = refl; texts = refl; flags = refl; start = span.start; stop = span.stop; agree = refl; children = and_from _ _ f (and_from _ true (formed-name y h) refl) }) in
      has_form-node s-Statement VariableDeclaration (made (Some (codes "using") ∷ []) []) (many (node VariableDeclarator (made [] []) new before empty) then done) (record { sort = refl; texts = refl; flags = refl; start = word_span.start; stop = word_span.stop; agree = refl; children = and_from _ true (formed-first s-VariableDeclarator (node VariableDeclarator (made [] []) new) empty d refl) refl })

  head-block-form : (x b : Tree) → has_form s-Binding x ≡ true → has_form s-Statement b ≡ true → has_form s-Statement (block_node (using_statement x y before b before empty)) ≡ true
  head-block-form x b f g =
      let span = no-span [] [] in
      has_form-node s-Statement BlockStatement (made [] []) (statements (using_statement x y before b before empty) then done) (record { sort = refl; texts = refl; flags = refl; start = span.start; stop = span.stop; agree = refl; children = and_from _ true (formed-first s-Statement (using_statement x y) (b before empty) (statement-form x f) (formed-first s-Statement b empty g refl)) refl })

-- what stands in the head
record HeadForm (l k : Label) (x e b : Tree) : Type 0 where
  binding : has_form s-Binding x ≡ true
  value : has_form s-Expression e ≡ true
  body : has_form s-Statement b ≡ true
  left : (y : Bound) → IsText y → has_form s-ForLeft (node VariableDeclaration (record l { texts = Some (codes "const") ∷ [] }) (many (node VariableDeclarator k (one (identifier y) then missing then done) before empty) then done)) ≡ true

head-parts : (a : Sort) (m l k : Label) (x e b : Tree) → has_form a (node ForOfStatement m (head_fields l k x e b)) ≡ true → HeadForm l k x e b
head-parts a m l k x e b f =
    let d = node_form a ForOfStatement m (head_fields l k x e b) f in
    let declared = node VariableDeclarator k (one x then missing then done) in
    let left_one = and-left _ _ d.children in
    let rest = and-right _ _ d.children in
    let v = node_form s-ForLeft VariableDeclaration l (many (declared before empty) then done) left_one in
    let one_of = (first-formed s-VariableDeclarator declared empty (and-left _ true v.children)).0 in
    let r = node_form s-VariableDeclarator VariableDeclarator k (one x then missing then done) one_of in
    record {
      binding = and-left _ true r.children;
      value = and-left _ _ rest;
      body = and-left _ true (and-right _ _ rest);
      left = λ y h.
          let new : Fields = one (identifier y) then missing then done in
          let made_one = has_form-node s-VariableDeclarator VariableDeclarator k new (record { sort = r.sort; texts = r.texts; flags = r.flags; start = r.start; stop = r.stop; agree = refl; children = and_from _ true (binding-form y h) refl }) in
          has_form-node s-ForLeft VariableDeclaration (record l { texts = Some (codes "const") ∷ [] }) (many (node VariableDeclarator k new before empty) then done) (record { sort = v.sort; texts = refl; flags = v.flags; start = v.start; stop = v.stop; agree = refl; children = and_from _ true (formed-first s-VariableDeclarator (node VariableDeclarator k new) empty made_one refl) refl });
    }

head-using-form : (n : Site) (s s' : Ledger) (t u : Tree) (a : Sort) → HeadUsing n s (at_node t) s' (at_node u) → has_form a t ≡ true → has_form a u ≡ true
head-using-form n s s' t u a (of_head {w = w} {m = m} {l = l} {k = k} {x = x} {e = e} {b = b} {c = c} word fresh named silent declares) f =
    let y = next_name w c in
    let text = next-text w _ y (record { fresh = fresh; symbol = refl }) in
    let d = node_form a ForOfStatement m (head_fields l k x e b) f in
    let p = head-parts a m l k x e b f in
    has_form-node a ForOfStatement m (block_head l k y x e b) (record { sort = d.sort; texts = d.texts; flags = d.flags; start = d.start; stop = d.stop; agree = refl; children = and_from _ _ (p.left y text) (and_from _ _ p.value (and_from _ true (head-block-form y text x b p.binding p.body) refl)) })

-- PLACES

head-rest : (m : Label) (fs : Fields) (i : ℕ) (up : List Ancestor) (t : Tree) → is_bad_rest (ancestor ForOfStatement m fs i 0 ∷ up) t ≡ false
head-rest m fs i up t = no-rest (ancestor ForOfStatement m fs i 0) refl refl up t

-- THE BODY, from the loop to its block
module _ (m l : Label) (old new fs : Fields) (up : List Ancestor) where
  abbrev in_loop : List Ancestor
  in_loop = ancestor ForOfStatement m old 2 0 ∷ up

  abbrev in_its_block : List Ancestor
  in_its_block = ancestor BlockStatement l fs 0 0 ∷ (ancestor ForOfStatement m new 2 0 ∷ up)

  body-offers : Offers true in_loop in_its_block
  body-offers = record { labels = refl; loop = λ j h. refl; breakable = λ j h. refl; function = λ h. h; members = λ h. h; calls = λ h. h; targets = λ h. h; in_module = refl; method = λ h. h; constructor = λ h. absurd (cc (h, no-constructor (ancestor ForOfStatement m old 2 0) refl up)); class = λ h. h }

  body-label : (b : Tree) → is_duplicate_label in_its_block b ≡ false
  body-label (node Identifier k gs) = refl
  body-label (node _ k gs) = refl

  body-word : (b : Tree) → is_bad_using in_loop b ≡ false → is_bad_using in_its_block b ≡ false
  body-word (node VariableDeclaration k (many ds then gs)) h = h
  body-word (node VariableDeclaration k gs) h = refl
  body-word (node _ k gs) h = refl

  body-head : (b : Tree) → is_bad_for in_its_block b ≡ false
  body-head (node VariableDeclaration k (many ds then gs)) = refl
  body-head (node VariableDeclaration k gs) = refl
  body-head (node _ k gs) = refl

  body-here : (b : Tree) → KeepsHere in_loop b → KeepsHere in_its_block b
  body-here b h = record {
    jump = jump-moved in_loop in_its_block true body-offers b (λ e. absurd (cc e)) h.jump;
    label = body-label b;
    returned = return-moved in_loop in_its_block b body-offers.function h.returned;
    super_word = super-moved in_loop in_its_block true body-offers (λ x. absurd (cc x)) (λ x. absurd (cc x)) b h.super_word;
    target = refl;
    chain = h.chain;
    mark = h.mark;
    deleted = h.deleted;
    value = h.value;
    using_word = body-word b h.using_word;
    head = body-head b;
    item = h.item;
    accessor = h.accessor;
    rest = refl;
    declaration = never-and (is_declaration (kind_of b) (label_of b)) (is_lone_body in_its_block) refl;
    meta = meta-moved in_loop in_its_block true body-offers b h.meta;
  }

  body-keeps : (b : Tree) → Keeps in_loop b → Keeps in_its_block b
  body-keeps (node k j gs) h =
      let offers : (i : ℕ) → Offers true (ancestor k j gs i 0 ∷ in_loop) (ancestor k j gs i 0 ∷ in_its_block) = λ i. offers-within true in_loop in_its_block (ancestor k j gs i 0) (ancestor k j gs i 0) (alike-self _) body-offers (λ e. absurd (cc e)) in
      let near : (i : ℕ) → Near (ancestor k j gs i 0 ∷ in_loop) (ancestor k j gs i 0 ∷ in_its_block) = λ i. record { place = same_place _; head = alike-self _; rest = λ t. refl } in
      (body-here (node k j gs) h.0, in-moved true in_loop in_its_block k j gs gs 0 gs offers near (λ e. absurd (cc e)) h.1)

-- A NAME in the place of a name
name-there : (x : Tree) → is_name (Some x) ≡ true → has_form s-Binding x ≡ true → (k : Label) (fs : Fields) (a : Ancestor) (up : List Ancestor) → place_of (ancestor VariableDeclarator k fs 0 0 ∷ (a ∷ up)) ≡ Other → Keeps (ancestor VariableDeclarator k fs 0 0 ∷ (a ∷ up)) x
name-there (node Identifier l done) e f k fs a up p = (made-there (ancestor VariableDeclarator k fs 0 0 ∷ (a ∷ up)) Identifier l done (declarator-loose k fs 0 a up) (ap (λ q. is_bad_target q (node Identifier l done)) p) refl refl refl, tt)
name-there (node Identifier l (g then gs)) e f k fs a up p = absurd (cc (node_form s-Binding Identifier l (g then gs) f).children)
name-there (node _ l gs) e f k fs a up p = absurd (cc e)

-- `using` declares names alone
named-by : (a n x y z : Bool) → a ≡ true → (a && ((not n || false) || x || y || z)) ≡ false → n ≡ true
named-by true true x y z e h = refl
named-by true false x y z e h = absurd (cc h)
named-by false n x y z e h = absurd (cc e)

module _ (m l k : Label) (y : Bound) (x e b : Tree) (up : List Ancestor) where
  abbrev old_head : Fields
  old_head = head_fields l k x e b

  abbrev now_head : Fields
  now_head = block_head l k y x e b

  abbrev left_of : Tree
  left_of = node VariableDeclaration (record l { texts = Some (codes "const") ∷ [] }) (many (node VariableDeclarator k (one (identifier y) then missing then done) before empty) then done)

  left-keeps : Keeps (ancestor ForOfStatement m now_head 0 0 ∷ up) left_of
  left-keeps =
      let to = ancestor ForOfStatement m now_head 0 0 ∷ up in
      let inner : Fields = one (identifier y) then missing then done in
      let there = ancestor VariableDeclaration (record l { texts = Some (codes "const") ∷ [] }) (many (node VariableDeclarator k inner before empty) then done) 0 0 in (
        record { jump = refl; label = refl; returned = refl; super_word = refl; target = refl; chain = refl; mark = refl; deleted = refl; value = refl; using_word = refl; head = refl; item = refl; accessor = refl; rest = head-rest m now_head 0 up left_of; declaration = refl; meta = refl },
        (
          (
            (
              record { jump = refl; label = refl; returned = refl; super_word = refl; target = refl; chain = refl; mark = refl; deleted = refl; value = refl; using_word = refl; head = refl; item = refl; accessor = refl; rest = refl; declaration = refl; meta = refl },
              ((made-there (ancestor VariableDeclarator k inner 0 0 ∷ (there ∷ to)) Identifier _ done (declarator-loose k inner 0 there to) refl refl refl refl, tt), (tt, tt)),
            ),
            tt,
          ),
          tt,
        ),
      )

  abbrev listed : Trees
  listed = using_statement x y before b before empty

  using-keeps : is_name (Some x) ≡ true → has_form s-Binding x ≡ true → Keeps (ancestor BlockStatement (made [] []) (statements listed then done) 0 0 ∷ (ancestor ForOfStatement m now_head 2 0 ∷ up)) (using_statement x y)
  using-keeps name f =
      let to = ancestor BlockStatement (made [] []) (statements listed then done) 0 0 ∷ (ancestor ForOfStatement m now_head 2 0 ∷ up) in
      let to_loose : Loose to = loose (made [] []) (statements listed then done) 0 0 (ancestor ForOfStatement m now_head 2 0 ∷ up) BlockStatement refl in
      let inner : Fields = one x then one (identifier y) then done in
      let word_label : Label = made (Some (codes "using") ∷ []) [] in
      let list : Fields = many (node VariableDeclarator (made [] []) inner before empty) then done in
      let there = ancestor VariableDeclaration word_label list 0 0 in (
        record { jump = refl; label = refl; returned = refl; super_word = refl; target = refl; chain = refl; mark = refl; deleted = refl; value = refl; using_word = λ i. not (name i) || false || false || false || false; head = refl; item = refl; accessor = refl; rest = refl; declaration = refl; meta = refl },
        (
          (
            (
              declarator-here to to_loose refl word_label list (made [] []) x (identifier y),
              (
                name-there x name f (made [] []) inner there to refl,
                ((made-there (ancestor VariableDeclarator (made [] []) inner 1 0 ∷ (there ∷ to)) Identifier _ done (declarator-loose (made [] []) inner 1 there to) refl refl refl refl, tt), tt),
              ),
            ),
            tt,
          ),
          tt,
        ),
      )

  head-keeps : (a : Sort) → l.texts ≡ Some (codes "using") ∷ [] → has_form a (node ForOfStatement m old_head) ≡ true → Keeps up (node ForOfStatement m old_head) → Keeps up (node ForOfStatement m now_head)
  head-keeps a word f h =
      let p = head-parts a m l k x e b f in
      let name = named-by (bytes_eq (first_text l.texts) (codes "using")) (is_name (Some x)) _ _ _ (ap (λ ts. bytes_eq (first_text ts) (codes "using")) word) h.1.0.0.using_word in
      let alike : (i : ℕ) → Alike (ancestor ForOfStatement m old_head i 0) (ancestor ForOfStatement m now_head i 0) = λ i. frame-alike ForOfStatement m old_head now_head i refl (λ e. absurd (cc e)) in
      let offers : (i : ℕ) → Offers true (ancestor ForOfStatement m old_head i 0 ∷ up) (ancestor ForOfStatement m now_head i 0 ∷ up) = λ i. offers-within true up up (ancestor ForOfStatement m old_head i 0) (ancestor ForOfStatement m now_head i 0) (alike i) (offers-self up) (λ e. absurd (cc e)) in
      let near : (i : ℕ) → Near (ancestor ForOfStatement m old_head i 0 ∷ up) (ancestor ForOfStatement m now_head i 0 ∷ up) = λ i. near-within up up (ancestor ForOfStatement m old_head i 0) (ancestor ForOfStatement m now_head i 0) (alike i) (near-self up) in
      let value = in-moved true up up ForOfStatement m old_head now_head 1 (one e then done) offers near (λ z. absurd (cc z)) (h.1.1.0, tt) in
      let block = frame-made (ancestor ForOfStatement m now_head 2 0 ∷ up) BlockStatement (made [] []) (statements listed then done) refl refl (head-rest m now_head 2 up (block_node listed)) in (
        frame-here up ForOfStatement m old_head ForOfStatement m now_head refl refl h.0,
        (left-keeps, (value.0, ((block, ((using-keeps name p.binding, (body-keeps m (made [] []) old_head now_head (statements listed then done) up b h.1.1.1.0, tt)), tt)), tt))),
      )

-- THE RULE

head-using-keeps : (n : Site) (s s' : Ledger) (t u : Tree) (a : Sort) (up : List Ancestor) → HeadUsing n s (at_node t) s' (at_node u) → has_form a t ≡ true → Keeps up t → Keeps up u
head-using-keeps n s s' t u a up (of_head {w = w} {m = m} {l = l} {k = k} {x = x} {e = e} {b = b} {c = c} word fresh named silent declares) f h = head-keeps m l k (next_name w c) x e b up a word f h

head-nodes : (n : Site) (s s' : Ledger) (x y : Spot) → HeadUsing n s x s' y → AtNodes x y
head-nodes n s s' x y (of_head word fresh named silent declares) = tt

head-beside : (n : Site) (s s' : Ledger) (x y : Spot) → HeadUsing n s x s' y → SameBeside s s'
head-beside n s s' x y (of_head word fresh named silent declares) = record { pending = refl; this = refl; top = refl }

head-imports : (n : Site) (s s' : Ledger) (t u : Tree) → HeadUsing n s (at_node t) s' (at_node u) → is_import u ≡ is_import t
head-imports n s s' t u (of_head word fresh named silent declares) = refl

head-seen : (n : Site) (s s' : Ledger) (t u : Tree) → HeadUsing n s (at_node t) s' (at_node u) → Changed false t u ⊎ Framed t u
head-seen n s s' t u (of_head word fresh named silent declares) = inr (record { was = refl; is = refl })

head-loops : (n : Site) (s s' : Ledger) (t u : Tree) → HeadUsing n s (at_node t) s' (at_node u) → is_labeled_loop u ≡ is_labeled_loop t
head-loops n s s' t u (of_head word fresh named silent declares) = refl

head-names : (n : Site) (s s' : Ledger) (t u : Tree) → kind_of t ≡ Identifier → HeadUsing n s (at_node t) s' (at_node u) → ⊥
head-names n s s' t u e (of_head word fresh named silent declares) = absurd (cc e)

pub head-using : UsingLawful HeadUsing
head-using = record { alone = record { nodes = head-nodes; beside = head-beside; imports = head-imports }; formed = λ n s s' t u a lets h f. head-using-form n s s' t u a h f; keeps = head-using-keeps; seen = head-seen; loops = λ n s s' t u e h. head-loops n s s' t u h; names = head-names }
