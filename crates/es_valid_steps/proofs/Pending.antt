-- What is pending for a list or for the body of an arrow keeps the rules of places where it is written.
use Rattle.std.proofs.Common.{◌≡◌, ℕ, zero, suc, refl, sym, subst, List, [], ◌∷◌}
use Rattle.std.specs.Prelude.{Bool, true, false, not, ◌&&◌, ◌||◌, Option, Some, None, codes, map, if◌then◌else◌}
use Rattle.es_tree.specs.Ancestors.{Ancestor, ancestor, is_derived_constructor, place_of, stands_in}
use Rattle.es_tree.specs.CoreStaticRules.{declarator_place, binding_place, is_bad_target, is_missing_init}
use Rattle.es_tree.specs.StaticRules.{is_bad_for, is_bad_rest, is_lone_declarator}
use Rattle.es_tree.specs.Tree.{Tree, node, Label, Fields, done, ◌then◌, missing, one, many, statements, Trees, empty, ◌before◌, trees}
use Rattle.es_tree.specs.declared.ast_type.AstType.{AstType}
use Rattle.es_tree.specs.declared.ast_type.AstType.TheVariants.{ArrowFunctionExpression, BlockStatement, ForInStatement, ForOfStatement, FunctionBody, Identifier, Program, ReturnStatement, StaticBlock, SwitchCase, VariableDeclaration, VariableDeclarator}
use Rattle.es_tree.specs.declared.place.Place.{Place}
use Rattle.es_tree.specs.declared.place.Place.TheVariants.{Other, ProgramBody}
use Rattle.es_resolution.specs.Declarations.{Bound}
use Rattle.es_steps.specs.Nodes.{declarator, declarator_with, identifier, joined_trees, made, return_node, this_expression, this_statement}
use Rattle.es_steps.specs.Open.{Additions, Pending, after_imports, declaration, import_statement, is_import, no_additions, nothing_pending, pending_statements, whole_list, with_this, with_vars, written, written_body}
use Rattle.es_steps.proofs.FormLists.{IsPendingList, IsPlain}
use Rattle.es_valid_steps.specs.PlaceRules.{Keeps, KeepsAll}
use Rattle.es_valid_steps.proofs.Free.{made-there, unmarked}
use Rattle.es_valid_steps.proofs.Loose.{goes, loose}
use Rattle.es_valid_steps.proofs.Loose.PlaceGoes.{within}
use Rattle.es_valid_steps.proofs.Moves.{super-moved}
use Rattle.es_valid_steps.proofs.Offers.{Offers}
use Rattle.es_valid_steps.proofs.Offers.PlaceOffers.{same_place}

-- LISTS

-- what has a list of statements
abbrev pub is_list_kind : AstType → Bool
is_list_kind BlockStatement = true
is_list_kind FunctionBody = true
is_list_kind Program = true
is_list_kind StaticBlock = true
is_list_kind SwitchCase = true
is_list_kind _ = false

data ListPlace : Place → Type 0 where
  at_top : ListPlace ProgramBody
  elsewhere : ListPlace Other

record Listed (up : List Ancestor) : Type 0 where
  place : ListPlace (place_of up)
  for_in : stands_in ForInStatement 0 up ≡ false
  for_of : stands_in ForOfStatement 0 up ≡ false
  rest : (t : Tree) → is_bad_rest up t ≡ false

module _ (l : Label) (all : Fields) (up : List Ancestor) where
  list-at : (k : AstType) (i : ℕ) → is_list_kind k ≡ true → ListPlace (place_of (ancestor k l all i 0 ∷ up))
  list-at BlockStatement zero e = elsewhere
  list-at BlockStatement (suc zero) e = elsewhere
  list-at BlockStatement (suc (suc i)) e = elsewhere
  list-at FunctionBody zero e = elsewhere
  list-at FunctionBody (suc zero) e = elsewhere
  list-at FunctionBody (suc (suc i)) e = elsewhere
  list-at Program zero e = elsewhere
  list-at Program (suc zero) e = at_top
  list-at Program (suc (suc i)) e = elsewhere
  list-at StaticBlock zero e = elsewhere
  list-at StaticBlock (suc zero) e = elsewhere
  list-at StaticBlock (suc (suc i)) e = elsewhere
  list-at SwitchCase zero e = elsewhere
  list-at SwitchCase (suc zero) e = elsewhere
  list-at SwitchCase (suc (suc i)) e = elsewhere
  list-at _ i e = absurd (cc e)

  list-rest : (k : AstType) (i : ℕ) → is_list_kind k ≡ true → (up : List Ancestor) (t : Tree) → is_bad_rest (ancestor k l all i 0 ∷ up) t ≡ false
  list-rest k i e [] t = refl
  list-rest BlockStatement i e (b ∷ up) t = refl
  list-rest FunctionBody i e (b ∷ up) t = refl
  list-rest Program i e (b ∷ up) t = refl
  list-rest StaticBlock i e (b ∷ up) t = refl
  list-rest SwitchCase i e (b ∷ up) t = refl
  list-rest _ i e (b ∷ up) t = absurd (cc e)

  listed : (k : AstType) (i : ℕ) → is_list_kind k ≡ true → Listed (ancestor k l all i 0 ∷ up)
  listed BlockStatement i e = record { place = list-at BlockStatement i e; for_in = refl; for_of = refl; rest = list-rest BlockStatement i e up }
  listed FunctionBody i e = record { place = list-at FunctionBody i e; for_in = refl; for_of = refl; rest = list-rest FunctionBody i e up }
  listed Program i e = record { place = list-at Program i e; for_in = refl; for_of = refl; rest = list-rest Program i e up }
  listed StaticBlock i e = record { place = list-at StaticBlock i e; for_in = refl; for_of = refl; rest = list-rest StaticBlock i e up }
  listed SwitchCase i e = record { place = list-at SwitchCase i e; for_in = refl; for_of = refl; rest = list-rest SwitchCase i e up }
  listed _ i e = absurd (cc e)

-- DECLARATIONS of temporaries

abbrev var_label : Label
var_label = made (Some (codes "var") ∷ []) []

record PlaceSays (p : Place) : Type 0 where
  target : (t : Tree) → is_bad_target p t ≡ false
  inner : (t : Tree) → is_bad_target (declarator_place p (codes "var")) t ≡ false
  bound : (t : Tree) → is_bad_target (binding_place (declarator_place p (codes "var"))) t ≡ false
  value : (b : Bound) → is_missing_init (declarator_place p (codes "var")) (declarator b) ≡ false
  given : (b : Bound) → is_missing_init (declarator_place p (codes "var")) (declarator_with (identifier b) this_expression) ≡ false
  name : (b : Bound) → is_missing_init (binding_place (declarator_place p (codes "var"))) (identifier b) ≡ false

place-says : (p : Place) → ListPlace p → PlaceSays p
place-says p at_top = record { target = λ t. refl; inner = λ t. refl; bound = λ t. refl; value = λ b. refl; given = λ b. refl; name = λ b. refl }
place-says p elsewhere = record { target = λ t. refl; inner = λ t. refl; bound = λ t. refl; value = λ b. refl; given = λ b. refl; name = λ b. refl }

module _ (up : List Ancestor) (h : Listed up) where
  no-head : (t : Tree) → is_bad_for up t ≡ false
  no-head (node VariableDeclaration l (many ds then fs)) = λ i. (h.for_in i || h.for_of i) && not (is_lone_declarator ds)
  no-head (node VariableDeclaration l fs) = refl
  no-head (node _ l fs) = refl

  name-keeps : (ds : Trees) (fs : Fields) (b : Bound) → Keeps (ancestor VariableDeclarator (made [] []) fs 0 0 ∷ (ancestor VariableDeclaration var_label (many ds then done) 0 0 ∷ up)) (identifier b)
  name-keeps ds fs b = let s = place-says (place_of up) h.place in (record { jump = refl; label = refl; returned = refl; super_word = refl; target = s.bound (identifier b); chain = refl; mark = unmarked (binding_place (declarator_place (place_of up) (codes "var"))) Identifier (record (made (Some b.name ∷ []) []) { marks = b.symbol ∷ [] }) done refl; deleted = refl; value = s.name b; using_word = refl; head = refl; item = refl; accessor = refl; rest = refl; declaration = refl; meta = refl }, tt)

  declarator-keeps : (ds : Trees) (b : Bound) → Keeps (ancestor VariableDeclaration var_label (many ds then done) 0 0 ∷ up) (declarator b)
  declarator-keeps ds b = let s = place-says (place_of up) h.place in (record { jump = refl; label = refl; returned = refl; super_word = refl; target = s.inner (declarator b); chain = refl; mark = unmarked (declarator_place (place_of up) (codes "var")) VariableDeclarator (made [] []) (one (identifier b) then missing then done) refl; deleted = refl; value = s.value b; using_word = refl; head = refl; item = refl; accessor = refl; rest = no-rest up; declaration = refl; meta = refl }, (name-keeps ds (one (identifier b) then missing then done) b, (tt, tt)))
    where
      no-rest : (up : List Ancestor) → is_bad_rest (ancestor VariableDeclaration var_label (many ds then done) 0 0 ∷ up) (declarator b) ≡ false
      no-rest [] = refl
      no-rest (a ∷ up) = refl

  declarators-keep : (all : Trees) (bs : List Bound) → KeepsAll (ancestor VariableDeclaration var_label (many all then done) 0 0 ∷ up) (trees (map declarator bs))
  declarators-keep all [] = tt
  declarators-keep all (b ∷ bs) = (declarator-keeps all b, declarators-keep all bs)

  declared-keeps : (b : Bound) (bs : List Bound) → Keeps up (node VariableDeclaration var_label (many (trees (map declarator (b ∷ bs))) then done))
  declared-keeps b bs =
      let ds = trees (map declarator (b ∷ bs)) in
      let s = place-says (place_of up) h.place in
      (record { jump = refl; label = refl; returned = refl; super_word = refl; target = s.target _; chain = refl; mark = unmarked (place_of up) VariableDeclaration var_label (many ds then done) refl; deleted = refl; value = refl; using_word = refl; head = no-head (node VariableDeclaration var_label (many ds then done)); item = refl; accessor = refl; rest = h.rest _; declaration = refl; meta = refl }, (declarators-keep ds (b ∷ bs), tt))

  declaration-keeps : (bs : List Bound) (ts : Trees) → KeepsAll up ts → KeepsAll up (declaration (codes "var") (map declarator bs) ts)
  declaration-keeps [] ts k = k
  declaration-keeps (b ∷ bs) ts k = (declared-keeps b bs, k)

  -- `var x = this;`
  this-declarator : (ds : Trees) (b : Bound) → Keeps (ancestor VariableDeclaration var_label (many ds then done) 0 0 ∷ up) (declarator_with (identifier b) this_expression)
  this-declarator ds b =
      let s = place-says (place_of up) h.place in
      let fs : Fields = one (identifier b) then one this_expression then done in (
        record { jump = refl; label = refl; returned = refl; super_word = refl; target = s.inner (declarator_with (identifier b) this_expression); chain = refl; mark = unmarked (declarator_place (place_of up) (codes "var")) VariableDeclarator (made [] []) fs refl; deleted = refl; value = s.given b; using_word = refl; head = refl; item = refl; accessor = refl; rest = no-rest up; declaration = refl; meta = refl },
        (name-keeps ds fs b, ((record { jump = refl; label = refl; returned = refl; super_word = refl; target = refl; chain = refl; mark = refl; deleted = refl; value = refl; using_word = refl; head = refl; item = refl; accessor = refl; rest = refl; declaration = refl; meta = refl }, tt), tt)),
      )
    where
      no-rest : (up : List Ancestor) → is_bad_rest (ancestor VariableDeclaration var_label (many ds then done) 0 0 ∷ up) (declarator_with (identifier b) this_expression) ≡ false
      no-rest [] = refl
      no-rest (a ∷ up) = refl

  this-keeps : (x : Option Bound) (ts : Trees) → KeepsAll up ts → KeepsAll up (with_this x ts)
  this-keeps None ts k = k
  this-keeps (Some b) ts k =
      let ds : Trees = declarator_with (identifier b) this_expression before empty in
      let s = place-says (place_of up) h.place in
      ((record { jump = refl; label = refl; returned = refl; super_word = refl; target = s.target (this_statement b); chain = refl; mark = unmarked (place_of up) VariableDeclaration var_label (many ds then done) refl; deleted = refl; value = refl; using_word = refl; head = no-head (this_statement b); item = refl; accessor = refl; rest = h.rest (this_statement b); declaration = refl; meta = refl }, ((this-declarator ds b, tt), tt)), k)

-- AROUND IMPORTS

joined-keeps : (up : List Ancestor) (bs ts : Trees) → KeepsAll up bs → KeepsAll up ts → KeepsAll up (joined_trees bs ts)
joined-keeps up empty ts h k = k
joined-keeps up (b before bs) ts h k = (h.0, joined-keeps up bs ts h.1 k)

joined-rest : (up : List Ancestor) (bs ts : Trees) → KeepsAll up (joined_trees bs ts) → KeepsAll up ts
joined-rest up empty ts h = h
joined-rest up (b before bs) ts h = joined-rest up bs ts h.1

after-keeps : (up : List Ancestor) (bs ts : Trees) → KeepsAll up bs → KeepsAll up ts → KeepsAll up (after_imports bs ts)
after-keeps up bs empty h k = h
after-keeps up bs (t before ts) h k = at (is_import t) (after-keeps up bs ts h k.1)
  where
    at : (v : Bool) → KeepsAll up (after_imports bs ts) → KeepsAll up (if v then t before after_imports bs ts else joined_trees bs (t before ts))
    at true r = (k.0, r)
    at false r = joined-keeps up bs (t before ts) h k

pub after-rest : (up : List Ancestor) (bs ts : Trees) → KeepsAll up (after_imports bs ts) → KeepsAll up ts
after-rest up bs empty h = tt
after-rest up bs (t before ts) h = at (is_import t) (λ k. after-rest up bs ts k) h
  where
    at : (v : Bool) → (KeepsAll up (after_imports bs ts) → KeepsAll up ts) → KeepsAll up (if v then t before after_imports bs ts else joined_trees bs (t before ts)) → KeepsAll up (t before ts)
    at true r k = (k.0, r k.1)
    at false r k = joined-rest up bs (t before ts) k

-- what is to be written at the program's top keeps the rules here
pub record TopKeeps (up : List Ancestor) (a : Additions) : Type 0 where
  pub imports : KeepsAll up (trees (map import_statement a.imports))
  pub excluded : (ts : Trees) → KeepsAll up ts → KeepsAll up (declaration (codes "const") a.excluded ts)

pub nothing-keeps : (up : List Ancestor) (a : Additions) → a ≡ no_additions → TopKeeps up a
nothing-keeps up a e = subst (λ (b : Additions). TopKeeps up b) (sym e) (record { imports = tt; excluded = λ ts k. k })

-- a list with what is pending for it
pub list-keeps : (k : AstType) (l : Label) (all : Fields) (i : ℕ) (up : List Ancestor) (p : Pending) (x : Option Bound) (a : Additions) (ts : Trees) → is_list_kind k ≡ true → IsPlain p → TopKeeps (ancestor k l all i 0 ∷ up) a → KeepsAll (ancestor k l all i 0 ∷ up) ts → KeepsAll (ancestor k l all i 0 ∷ up) (whole_list p x a ts)
list-keeps k l all i up p x a ts e h top g =
    let here = ancestor k l all i 0 ∷ up in
    let list = listed l all up k i e in
    let vars = subst (λ (q : Pending). KeepsAll here (written q empty)) (sym h.are) (declaration-keeps here list h.names empty tt) in
    let others = joined-keeps here (trees (map import_statement a.imports)) (written p empty) top.imports vars in
    after-keeps here (pending_statements p x a) ts (top.excluded (with_this x (joined_trees (trees (map import_statement a.imports)) (written p empty))) (this-keeps here list x (joined_trees (trees (map import_statement a.imports)) (written p empty)) others)) g

-- where nothing is for the program's top
pub whole-keeps : {This : Option Bound → Type 0} (k : AstType) (l : Label) (all : Fields) (i : ℕ) (up : List Ancestor) (p : Pending) (x : Option Bound) (a : Additions) (ts : Trees) → is_list_kind k ≡ true → IsPendingList This (λ a. a ≡ no_additions) p x a → KeepsAll (ancestor k l all i 0 ∷ up) ts → KeepsAll (ancestor k l all i 0 ∷ up) (whole_list p x a ts)
whole-keeps k l all i up p x a ts e h g = list-keeps k l all i up p x a ts e h.vars (nothing-keeps (ancestor k l all i 0 ∷ up) a h.top) g

-- BODIES OF ARROWS: as the expression itself, and in the `return` of a body

module _ (l : Label) (all bs rs : Fields) (up : List Ancestor) where
  abbrev in_arrow : List Ancestor
  in_arrow = ancestor ArrowFunctionExpression l all 1 0 ∷ up

  abbrev in_body : List Ancestor
  in_body = ancestor FunctionBody (made [] []) bs 1 0 ∷ in_arrow

  abbrev in_return : List Ancestor
  in_return = ancestor ReturnStatement (made [] []) rs 0 0 ∷ in_body

  no-constructor : (up : List Ancestor) → is_derived_constructor (ancestor ArrowFunctionExpression l all 1 0 ∷ up) ≡ false
  no-constructor [] = refl
  no-constructor (a ∷ up) = refl

  to-offers : Offers true in_arrow in_return
  to-offers = record { labels = refl; loop = λ j h. h; breakable = λ j h. h; function = λ h. h; members = λ h. h; calls = λ h. h; targets = λ h. h; in_module = refl; method = λ h. h; constructor = λ h. absurd (cc (h, no-constructor up)); class = λ h. h }

  from-offers : Offers true in_return in_arrow
  from-offers = record { labels = refl; loop = λ j h. h; breakable = λ j h. h; function = λ h. h; members = λ h. h; calls = λ h. h; targets = λ h. h; in_module = refl; method = λ h. h; constructor = λ h. absurd (cc h); class = λ h. h }

  to-body : (e : Tree) → Keeps in_arrow e → Keeps in_return e
  to-body e h = goes in_arrow in_return (loose l all 1 0 up ArrowFunctionExpression refl) (loose (made [] []) rs 0 0 in_body ReturnStatement refl) true to-offers e (super-moved in_arrow in_return true to-offers (λ x. absurd (cc x)) (λ x. absurd (cc x)) e) (within (same_place Other)) (λ x. absurd (cc x)) h

  from-body : (e : Tree) → Keeps in_return e → Keeps in_arrow e
  from-body e h = goes in_return in_arrow (loose (made [] []) rs 0 0 in_body ReturnStatement refl) (loose l all 1 0 up ArrowFunctionExpression refl) true from-offers e (super-moved in_return in_arrow true from-offers (λ x. absurd (cc x)) (λ x. absurd (cc x)) e) (within (same_place Other)) (λ x. absurd (cc x)) h

-- the body with its temporaries
abbrev body_list : List Bound → Tree → Trees
body_list bs e = declaration (codes "var") (map declarator bs) (return_node e before empty)

abbrev body_fields : List Bound → Tree → Fields
body_fields bs e = many empty then statements (body_list bs e) then done

module _ (l : Label) (all : Fields) (up : List Ancestor) where
  abbrev arrow : List Ancestor
  arrow = ancestor ArrowFunctionExpression l all 1 0 ∷ up

  with-names : (bs : List Bound) (e : Tree) → Keeps arrow e → Keeps arrow (written_body (with_vars bs nothing_pending) e)
  with-names [] e h = h
  with-names (b ∷ bs) e h =
      let fs = body_fields (b ∷ bs) e in
      let here = ancestor FunctionBody (made [] []) fs 1 0 ∷ arrow in
      let returned : Keeps here (return_node e) = (record { jump = refl; label = refl; returned = refl; super_word = refl; target = refl; chain = refl; mark = refl; deleted = refl; value = refl; using_word = refl; head = refl; item = refl; accessor = refl; rest = refl; declaration = refl; meta = refl }, (to-body l all fs (one e then done) up e h, tt)) in
      (made-there arrow FunctionBody (made [] []) fs (loose l all 1 0 up ArrowFunctionExpression refl) refl refl refl refl, (tt, (declaration-keeps here (listed (made [] []) fs arrow FunctionBody 1 refl) (b ∷ bs) (return_node e before empty) (returned, tt), tt)))

  without-names : (bs : List Bound) (e : Tree) → Keeps arrow (written_body (with_vars bs nothing_pending) e) → Keeps arrow e
  without-names [] e h = h
  without-names (b ∷ bs) e h = from-body l all (body_fields (b ∷ bs) e) (one e then done) up e h.1.1.0.1.0.1.0

  pub body-keeps : (p : Pending) (e : Tree) → IsPlain p → Keeps arrow e → Keeps arrow (written_body p e)
  body-keeps p e h k = subst (λ (p : Pending). Keeps arrow (written_body p e)) (sym h.are) (with-names h.names e k)

  pub body-inside : (p : Pending) (e : Tree) → IsPlain p → Keeps arrow (written_body p e) → Keeps arrow e
  body-inside p e h k = without-names h.names e (subst (λ (p : Pending). Keeps arrow (written_body p e)) h.are k)
