-- Where such calls are followed in a tree, and statements are put behind others, the static rules of places are kept.
use Rattle.std.proofs.Common.{◌≡◌, ℕ, zero, suc, refl, sym, subst, List, [], ◌∷◌}
use Rattle.std.specs.Prelude.{Bool, true, false, not, Some, bytes_eq, codes, if◌then◌else◌}
use Rattle.std.proofs.lemmas.Bool.{and_parts}
use Rattle.es_tree.specs.Ancestors.{Ancestor, ancestor, leads_by, place_of}
use Rattle.es_tree.specs.CoreStaticRules.{declarator_place, binding_place, is_bad_target, is_optional, is_simple_target, link_place, place_in, target_place}
use Rattle.es_tree.specs.HasForm.{fields_form, has_form, same_type, trees_form}
use Rattle.es_tree.specs.Names.{first_text}
use Rattle.es_tree.specs.Parens.{without_parens}
use Rattle.es_tree.specs.StaticRules.{is_bad_rest}
use Rattle.es_tree.specs.Tree.{Tree, node, Label, Fields, done, ◌then◌, Field, missing, one, many, statements, Trees, empty, ◌before◌, kind_of}
use Rattle.es_tree.specs.Words.{Text}
use Rattle.es_tree.specs.declared.ast_type.AstType.{AstType}
use Rattle.es_tree.specs.declared.ast_type.AstType.TheVariants.{ArrayTarget, AssignmentExpression, BlockStatement, CallExpression, ExpressionStatement, Identifier, MemberExpression, RestElement, SequenceExpression, Super, SwitchCase, TargetProperty, TargetRest, ThisExpression, VariableDeclaration, VariableDeclarator}
use Rattle.es_tree.specs.declared.place.Place.{Place}
use Rattle.es_tree.specs.declared.place.Place.TheVariants.{Declarator, Other, ProgramBody, Spine, Target}
use Rattle.es_tree.specs.declared.table.Content.TheVariants.{Child as c-Child}
use Rattle.es_tree.specs.declared.table.FieldName.TheVariants.{Arguments as f-Arguments}
use Rattle.es_tree.specs.declared.table.Often.TheVariants.{List as a-List}
use Rattle.es_tree.specs.declared.table.Sort.{Sort}
use Rattle.es_tree.specs.declared.table.Sort.TheVariants.{Argument as s-Argument, AssignmentTarget as s-AssignmentTarget, ChainElement as s-ChainElement, Expression as s-Expression}
use Rattle.es_tree.proofs.NodeForm.{node_form}
use Rattle.es_resolution.specs.Declarations.{Bound}
use Rattle.es_steps.specs.Nodes.{assign_node, identifier, made, this_expression}
use Rattle.es_steps.specs.Open.{is_body, opened_fields}
use Rattle.es_steps.specs.Steps.{Site, site_in, the_program}
use Rattle.es_steps.proofs.Opened.{finished-fields}
use Rattle.es_super_calls.specs.SuperCalls.{calls_it}
use Rattle.es_valid_steps.specs.PlaceRules.{Keeps, KeepsAll, KeepsBy, KeepsHere, KeepsIn}
use Rattle.es_valid_steps.proofs.Edges.{edges}
use Rattle.es_valid_steps.proofs.FieldForms.{FieldHas, FieldsHave, TreesHave, node-have}
use Rattle.es_valid_steps.proofs.Free.{Free, From, all-parts, made-there, part, unmarked}
use Rattle.es_valid_steps.proofs.Free.From.{from_other, from_spine}
use Rattle.es_valid_steps.proofs.Free.Under.{itself}
use Rattle.es_valid_steps.proofs.Loose.{Loose, loose}
use Rattle.es_valid_steps.proofs.MadeNodes.{free-assignment, free-call, free-empty, free-leaf, free-more, in-sequence, name-target}
use Rattle.es_valid_steps.proofs.Moves.{in-moved}
use Rattle.es_valid_steps.proofs.Offers.{Alike, Near, Offers, near-self, near-within, offers-self, offers-within}
use Rattle.es_valid_rests.proofs.FacedNodes.{alike-faced, here-faced}
use Rattle.es_valid_using.proofs.UsingPlaces.{below-rest}
use Rattle.es_set_this.specs.ConstructorThis.{set_statement, then_set}
use Rattle.es_constructor_this.specs.SetRows.{Puts}
use Rattle.es_constructor_this.specs.SetRows.Puts.{behind, further, nowhere}
use Rattle.es_constructor_this.proofs.Moved.{Moved, MovedAll, MovedBy, MovedIn}
use Rattle.es_constructor_this.proofs.Moved.Moved.{blocked, called, cased, inside}
use Rattle.es_constructor_this.proofs.Moved.MovedAll.{head, tail}
use Rattle.es_constructor_this.proofs.Moved.MovedBy.{to_child, to_children, to_list}
use Rattle.es_constructor_this.proofs.Moved.MovedIn.{first, later}
use Rattle.es_constructor_this.proofs.MovedForms.{is_chain_sort}
use Rattle.es_constructor_this.proofs.MovedSights.{alike-moved, here-moved, unmarked-callee}
use Rattle.es_constructor_this.proofs.SetShapes.{name_label}

-- TARGETS: no place takes what a chain's content may be

abbrev takes_chain : Place → Bool
takes_chain (Target s) = is_chain_sort s
takes_chain _ = false

of-declarator : (p : Place) (x : Text) → takes_chain (declarator_place p x) ≡ false
of-declarator ProgramBody x = refl
of-declarator (Target s) x = refl
of-declarator _ x = refl

of-binding : (p : Place) → takes_chain (binding_place p) ≡ false
of-binding (Declarator true lexical constant) = refl
of-binding (Declarator false lexical constant) = refl
of-binding _ = refl

of-link : (p : Place) → takes_chain (link_place p) ≡ false
of-link Spine = refl
of-link _ = refl

of-target : (x : Text) → takes_chain (target_place x) ≡ false
of-target x = at (bytes_eq x (codes "="))
  where
    at : (b : Bool) → is_chain_sort (if b then s-AssignmentTarget else s-Expression) ≡ false
    at true = refl
    at false = refl

of-place : (p : Place) (k : AstType) (l : Label) (i : ℕ) → takes_chain (place_in p k l i) ≡ false
of-place p VariableDeclaration l zero = of-declarator p (first_text l.texts)
of-place p VariableDeclarator l zero = of-binding p
of-place p MemberExpression l zero = of-link p
of-place p CallExpression l zero = of-link p
of-place p AssignmentExpression l zero = of-target (first_text l.texts)
of-place p _ l zero = refl
of-place p TargetProperty l (suc zero) = refl
of-place p ArrayTarget l (suc zero) = refl
of-place p _ l (suc zero) = refl
of-place p ArrayTarget l (suc (suc i)) = refl
of-place p _ l (suc (suc i)) = refl

of-ancestors : (up : List Ancestor) → takes_chain (place_of up) ≡ false
of-ancestors [] = refl
of-ancestors (a ∷ up) = of-place (place_of up) a.kind a.label a.index

target-left : (p : Place) (l m : Label) (fs gs : Fields) → takes_chain p ≡ false → is_bad_target p (node CallExpression l fs) ≡ false → is_bad_target p (node SequenceExpression m gs) ≡ false
target-left (Target s) l m fs gs e h = at s e h
  where
    at : (s : Sort) → is_chain_sort s ≡ false → is_bad_target (Target s) (node CallExpression l fs) ≡ false → is_bad_target (Target s) (node SequenceExpression m gs) ≡ false
    at s-ChainElement e h = absurd (cc e)
    at _ e h = absurd (cc h)
target-left _ l m fs gs e h = refl

rest-left : (up : List Ancestor) (l m : Label) (fs gs : Fields) → is_bad_rest up (node CallExpression l fs) ≡ false → is_bad_rest up (node SequenceExpression m gs) ≡ false
rest-left [] l m fs gs h = refl
rest-left (a ∷ []) l m fs gs h = refl
rest-left (a ∷ (b ∷ up)) l m fs gs h = h

-- A CALL that is followed

here-left : (up : List Ancestor) (l m : Label) (fs gs : Fields) → KeepsHere up (node CallExpression l fs) → KeepsHere up (node SequenceExpression m gs)
here-left up l m fs gs h = record {
  jump = refl;
  label = refl;
  returned = refl;
  super_word = refl;
  target = target-left (place_of up) l m fs gs (of-ancestors up) h.target;
  chain = refl;
  mark = unmarked (place_of up) SequenceExpression m gs refl;
  deleted = refl;
  value = refl;
  using_word = refl;
  head = refl;
  item = refl;
  accessor = refl;
  rest = rest-left up l m fs gs h.rest;
  declaration = refl;
  meta = refl;
}

from-link : (p : Place) (m : Label) (gs : Fields) → From (node Super m gs) (link_place p)
from-link Spine m gs = from_spine refl
from-link _ m gs = from_other

-- `super(..)` wherever there is room
super-free : (up : List Ancestor) (l m : Label) (gs : Fields) (ts : Trees) → is_optional CallExpression l ≡ false → Keeps up (node CallExpression l (one (node Super m gs) then many ts then done)) → Free up (node CallExpression l (one (node Super m gs) then many ts then done))
super-free up l m gs ts e h =
    let callee = part up up CallExpression l (one (node Super m gs) then many ts then done) 0 (node Super m gs) itself refl (from-link (place_of up) m gs) h.1.0 in
    free-call up l (node Super m gs) ts e (λ vp r c o. callee vp r (λ d. c refl) o) (all-parts up up CallExpression l (one (node Super m gs) then many ts then done) 1 ts itself refl refl refl refl h.1.1.0)

set-free : (up : List Ancestor) (b : Bound) → Free up (assign_node (identifier b) this_expression)
set-free up b = free-assignment up (made (Some (codes "=") ∷ []) []) (identifier b) this_expression (name-target up (name_label b)) (free-leaf up ThisExpression (made [] []) refl refl refl)

sequence-keeps : (up : List Ancestor) (b : Bound) (l : Label) (fs : Fields) → Keeps up (node CallExpression l fs) → Free up (node CallExpression l fs) → Keeps up (then_set (identifier b) l fs)
sequence-keeps up b l fs h free =
    let set = assign_node (identifier b) this_expression in
    let label = record (made [] []) { start = l.start; stop = l.stop } in
    let two = node CallExpression l fs before set before empty in
    (here-left up l label fs (many two then done) h.0, in-sequence up label two (free-more up (node CallExpression l fs) (set before empty) free (free-more up set empty (set-free up b) (free-empty up))) up itself)

abbrev ArgumentsForm : Label → Fields → Type 0
ArgumentsForm l gs = fields_form CallExpression l (record { field = f-Arguments; content = c-Child s-Argument a-List } ∷ []) gs ≡ true

arguments-keep : (up : List Ancestor) (b : Bound) (l m : Label) (gs hs : Fields) → ArgumentsForm l hs → is_optional CallExpression l ≡ false → Keeps up (node CallExpression l (one (node Super m gs) then hs)) → Keeps up (then_set (identifier b) l (one (node Super m gs) then hs))
arguments-keep up b l m gs (many ts then done) f e h = sequence-keeps up b l (one (node Super m gs) then many ts then done) h (super-free up l m gs ts e h)
arguments-keep up b l m gs (many ts then (x then hs)) f e h = absurd (let no : false ≡ true = (and_parts (trees_form s-Argument s-Argument ts) false f).1 in cc no)
arguments-keep up b l m gs done f e h = absurd (cc f)
arguments-keep up b l m gs (missing then hs) f e h = absurd (cc f)
arguments-keep up b l m gs (one t then hs) f e h = absurd (cc f)
arguments-keep up b l m gs (statements ts then hs) f e h = absurd (cc f)

call-keeps : (up : List Ancestor) (s : Sort) (b : Bound) (l : Label) (fs : Fields) → calls_it fs ≡ true → has_form s (node CallExpression l fs) ≡ true → Keeps up (node CallExpression l fs) → Keeps up (then_set (identifier b) l fs)
call-keeps up s b l (one (node Super m gs) then hs) e f h =
    let n = node_form s CallExpression l (one (node Super m gs) then hs) f in
    arguments-keep up b l m gs hs (and_parts _ _ n.children).1 (unmarked-callee up l (one (node Super m gs) then hs) e h.1) h
call-keeps up s b l (one (node _ m gs) then hs) e f h = absurd (cc e)
call-keeps up s b l done e f h = absurd (cc e)
call-keeps up s b l (missing then hs) e f h = absurd (cc e)
call-keeps up s b l (many ts then hs) e f h = absurd (cc e)
call-keeps up s b l (statements ts then hs) e f h = absurd (cc e)

-- IN THE LIST of a node in which statements may stand

module _ (a : Ancestor) (up : List Ancestor) (list_loose : Loose (a ∷ up)) (other : place_of (a ∷ up) ≡ Other) (b : Bound) where
  -- the statement that sets the name
  abbrev set_it : Tree
  set_it = assign_node (identifier b) this_expression

  abbrev in_statement : List Ancestor
  in_statement = ancestor ExpressionStatement (made [] []) (one set_it then done) 0 0 ∷ (a ∷ up)

  abbrev in_set : ℕ → List Ancestor
  in_set j = ancestor AssignmentExpression (made (Some (codes "=") ∷ []) []) (one (identifier b) then one this_expression then done) j 0 ∷ in_statement

  set-loose : (j : ℕ) → Loose (in_set j)
  set-loose j = loose (made (Some (codes "=") ∷ []) []) (one (identifier b) then one this_expression then done) j 0 in_statement AssignmentExpression refl

  statement-loose : Loose in_statement
  statement-loose = record {
    label = refl;
    top = refl;
    for_in = refl;
    for_of = refl;
    exported = refl;
    lone = refl;
    rest = λ t. refl;
    inner_rest = λ d t. below-rest (leads_by RestElement 0 d) (not (same_type (kind_of t) Identifier)) (leads_by TargetRest 0 d) (not (is_simple_target (kind_of (without_parens t))));
  }

  statement-keeps : Keeps (a ∷ up) (set_statement (identifier b))
  statement-keeps = (
    record {
      jump = refl;
      label = refl;
      returned = refl;
      super_word = refl;
      target = λ i. is_bad_target (other i) (set_statement (identifier b));
      chain = refl;
      mark = unmarked (place_of (a ∷ up)) ExpressionStatement (made [] []) (one set_it then done) refl;
      deleted = refl;
      value = refl;
      using_word = refl;
      head = refl;
      item = refl;
      accessor = refl;
      rest = list_loose.rest (set_statement (identifier b));
      declaration = refl;
      meta = refl;
    },
    (
      (
        made-there in_statement AssignmentExpression _ _ statement-loose refl refl refl refl,
        ((made-there (in_set 0) Identifier (name_label b) done (set-loose 0) refl refl refl refl, tt), ((made-there (in_set 1) ThisExpression (made [] []) done (set-loose 1) refl refl refl refl, tt), tt)),
      ),
      tt,
    ),
  )

  pub puts-keep : {ts us : Trees} → Puts (identifier b) ts us → KeepsAll (a ∷ up) ts → KeepsAll (a ∷ up) us
  puts-keep nowhere h = h
  puts-keep behind h = (h.0, (statement-keeps, h.1))
  puts-keep (further p) h = (h.0, puts-keep p h.1)

-- THE PARTS of a node, each of which has a form

pub parts-have : (s : Sort) (k : AstType) (l : Label) (fs : Fields) → has_form s (node k l fs) ≡ true → FieldsHave k (site_in the_program k l (opened_fields (is_body k) fs)) (is_body k) fs
parts-have s k l fs f =
    let same = finished-fields (is_body k) fs in
    subst (λ (gs : Fields). FieldsHave k (site_in the_program k l (opened_fields (is_body k) fs)) (is_body k) gs) same (node-have the_program s k l (opened_fields (is_body k) fs) (subst (λ (gs : Fields). has_form s (node k l gs) ≡ true) (sym same) f))

-- the same in a node of which one field changed
pub moved-around : (up : List Ancestor) (k : AstType) (l : Label) (fs gs : Fields) → ((j : ℕ) → Alike (ancestor k l fs j 0) (ancestor k l gs j 0)) → KeepsIn up k l fs 0 gs → KeepsIn up k l gs 0 gs
moved-around up k l fs gs alike h =
    let offers : (j : ℕ) → Offers true (ancestor k l fs j 0 ∷ up) (ancestor k l gs j 0 ∷ up) = λ j. offers-within true up up (ancestor k l fs j 0) (ancestor k l gs j 0) (alike j) (offers-self up) (λ e. absurd (cc e)) in
    let near : (j : ℕ) → Near (ancestor k l fs j 0 ∷ up) (ancestor k l gs j 0 ∷ up) = λ j. near-within up up (ancestor k l fs j 0) (ancestor k l gs j 0) (alike j) (near-self up) in
    in-moved true up up k l fs gs 0 gs offers near (λ e. absurd (cc e)) h

module _ {B : Bound → Type 0} where
  mutual
    pub moved-keeps : {c : Bool} (t u : Tree) → Moved B c t u → (s : Sort) → has_form s t ≡ true → (up : List Ancestor) → Keeps up t → Keeps up u
    moved-keeps _ _ (called {l = l} {fs = fs} b known calls) s f up h = call-keeps up s b l fs calls f h
    moved-keeps _ _ (blocked {l = l} {ts = ts} {us = us} b known p) s f up h =
        let list = puts-keep (ancestor BlockStatement l (statements ts then done) 0 0) up (loose l (statements ts then done) 0 0 up BlockStatement refl) refl b p h.1.0 in
        (here-faced up BlockStatement l (statements ts then done) (statements us then done) (edges s BlockStatement l (statements ts then done) f) refl h.0, moved-around up BlockStatement l (statements ts then done) (statements us then done) (alike-faced BlockStatement l (statements ts then done) (statements us then done) refl) (list, tt))
    moved-keeps _ _ (cased {l = l} {f = x} {ts = ts} {us = us} b known p) s f up h =
        let list = puts-keep (ancestor SwitchCase l (x then statements ts then done) 1 0) up (loose l (x then statements ts then done) 1 0 up SwitchCase refl) refl b p h.1.1.0 in
        (here-faced up SwitchCase l (x then statements ts then done) (x then statements us then done) (edges s SwitchCase l (x then statements ts then done) f) refl h.0, moved-around up SwitchCase l (x then statements ts then done) (x then statements us then done) (alike-faced SwitchCase l (x then statements ts then done) (x then statements us then done) refl) (h.1.0, (list, tt)))
    moved-keeps _ _ (inside {k = k} {l = l} {fs = fs} {gs = gs} m) s f up h =
        let edge = edges s k l fs f in
        (here-moved up k l fs gs edge m h.1 h.0, moved-around up k l fs gs (alike-moved k l fs gs edge m) (fields-keep fs gs m k (site_in the_program k l (opened_fields (is_body k) fs)) (is_body k) (parts-have s k l fs f) up l fs 0 h.1))

    fields-keep : {c : ℕ → Bool} (fs gs : Fields) → MovedIn B c fs gs → (k : AstType) (d : ℕ → Site) (bodies : ℕ → Bool) → FieldsHave k d bodies fs → (up : List Ancestor) (l : Label) (all : Fields) (i : ℕ) → KeepsIn up k l all i fs → KeepsIn up k l all i gs
    fields-keep _ _ (first {f = f} {g = g} m) k d bodies has up l all i h = (field-keeps f g m k (d zero) (bodies zero) has.0 (ancestor k l all i 0 ∷ up) h.0, h.1)
    fields-keep _ _ (later {fs = fs} {gs = gs} m) k d bodies has up l all i h = (h.0, fields-keep fs gs m k (λ j. d (suc j)) (λ j. bodies (suc j)) has.1 up l all (suc i) h.1)

    field-keeps : {c : Bool} (f g : Field) → MovedBy B c f g → (k : AstType) (n : Site) (v : Bool) → FieldHas k n v f → (up : List Ancestor) → KeepsBy up f → KeepsBy up g
    field-keeps _ _ (to_child {t = t} {u = u} m) k n v has up h = moved-keeps t u m has.sort has.formed up h
    field-keeps _ _ (to_children {ts = ts} {us = us} m) k n v has up h = all-keep ts us m has.trees up h
    field-keeps _ _ (to_list {ts = ts} {us = us} m) k n v has up h = all-keep ts us m has.trees up h

    all-keep : {c : Bool} (ts us : Trees) → MovedAll B c ts us → TreesHave ts → (up : List Ancestor) → KeepsAll up ts → KeepsAll up us
    all-keep _ _ (head {t = t} {u = u} m) has up h = (moved-keeps t u m has.0.sort has.0.formed up h.0, h.1)
    all-keep _ _ (tail {ts = ts} {us = us} m) has up h = (h.0, all-keep ts us m has.1 up h.1)
