-- Patterns with an object rest that move out of parameters: the rules of places are kept.
use Rattle.std.proofs.Common.{◌≡◌, ℕ, zero, suc, refl, sym, ap, subst, List, [], ◌∷◌}
use Rattle.std.specs.Prelude.{Bool, true, false, codes}
use Rattle.es_tree.specs.Ancestors.{Ancestor, ancestor, is_derived_constructor, place_of}
use Rattle.es_tree.specs.HasForm.{has_form}
use Rattle.es_tree.specs.Tree.{Tree, node, Label, Fields, done, ◌then◌, Field, missing, one, many, statements, Trees, empty, ◌before◌}
use Rattle.es_tree.specs.Words.{Text}
use Rattle.es_tree.specs.declared.ast_type.AstType.{AstType}
use Rattle.es_tree.specs.declared.ast_type.AstType.TheVariants.{ArrowFunctionExpression, AssignmentPattern, FunctionBody, FunctionDeclaration, FunctionExpression, ObjectPattern}
use Rattle.es_tree.specs.declared.place.Place.{Place}
use Rattle.es_tree.specs.declared.place.Place.TheVariants.{Other}
use Rattle.es_tree.specs.declared.table.Sort.{Sort}
use Rattle.es_resolution.specs.Declarations.{Bound}
use Rattle.es_steps.specs.Nodes.{identifier, joined_trees, made}
use Rattle.es_steps.specs.ParameterPatterns.{HoldsPattern, MovesParameter, ParameterRest, body_fields}
use Rattle.es_steps.specs.ParameterPatterns.HoldsPattern.{alone, with_default}
use Rattle.es_steps.specs.ParameterPatterns.MovesParameter.{moves_one}
use Rattle.es_steps.specs.ParameterPatterns.ParameterRest.{in_declaration, in_expression, in_arrow}
use Rattle.es_steps.specs.Patterns.{let_statement}
use Rattle.es_steps.specs.Rules.{next_name}
use Rattle.es_steps.specs.Steps.{Ledger, Site, Whole}
use Rattle.es_steps.specs.Steps.Spot.{at_node}
use Rattle.es_steps.proofs.Parameters.{parameter-only}
use Rattle.es_valid_steps.specs.PlaceRules.{Keeps, KeepsAll, KeepsBy}
use Rattle.es_valid_steps.proofs.Loose.{Loose, PlaceGoes, goes, loose}
use Rattle.es_valid_steps.proofs.Loose.PlaceGoes.{within}
use Rattle.es_valid_steps.proofs.Moves.{all-moved, keeps-moved, super-moved}
use Rattle.es_valid_steps.proofs.Offers.{Alike, Near, Offers, near-self, near-within, offers-self, offers-within}
use Rattle.es_valid_steps.proofs.Offers.PlaceOffers.{same_place}
use Rattle.es_valid_rests.proofs.Faces.{face_trees, marks}
use Rattle.es_valid_rests.proofs.FacedSteps.{FaceLawful, NodeFaced}
use Rattle.es_valid_rests.proofs.RestPlaces.{Still, calm-again, declarator-loose, is_calm, level-loose, name-keeps}
use Rattle.es_valid_rests.proofs.RestPlaces.Still.{still_other}
use Rattle.es_valid_rests.proofs.RestPlacesMoved.{in_declaration as in_the_declaration, in_declarator as in_the_declarator, moved-keeps}

-- LISTS

pub all-parts : (up : List Ancestor) (xs ts : Trees) → KeepsAll up (joined_trees xs ts) → KeepsAll up xs × KeepsAll up ts
all-parts up empty ts h = (tt, h)
all-parts up (x before xs) ts h = let rest = all-parts up xs ts h.1 in ((h.0, rest.0), rest.1)

pub all-joined : (up : List Ancestor) (xs ts : Trees) → KeepsAll up xs → KeepsAll up ts → KeepsAll up (joined_trees xs ts)
all-joined up empty ts h k = k
all-joined up (x before xs) ts h k = (h.0, all-joined up xs ts h.1 k)

-- THE SAME FIELD of a node whose fields have changed, where no rule sees it

module _ (up vp : List Ancestor) (a b : Ancestor) (h : Alike a b) (o : Offers true up vp) (n : Near up vp) where
  pub again-offers : Offers true (a ∷ up) (b ∷ vp)
  again-offers = offers-within true up vp a b h o (λ e. absurd (cc e))

  pub again-near : Near (a ∷ up) (b ∷ vp)
  again-near = near-within up vp a b h n

  pub again : (t : Tree) → Keeps (a ∷ up) t → Keeps (b ∷ vp) t
  again t g = keeps-moved true (a ∷ up) (b ∷ vp) t again-offers again-near (λ e. absurd (cc e)) g

  pub all-again : (ts : Trees) → KeepsAll (a ∷ up) ts → KeepsAll (b ∷ vp) ts
  all-again ts g = all-moved true (a ∷ up) (b ∷ vp) ts again-offers again-near (λ e. absurd (cc e)) g

  pub field-again : (f : Field) → KeepsBy (a ∷ up) f → KeepsBy (b ∷ vp) f
  field-again missing g = tt
  field-again (one t) g = again t g
  field-again (many ts) g = all-again ts g
  field-again (statements ts) g = all-again ts g

-- FUNCTIONS

data IsFunction : AstType → Type 0 where
  declares : IsFunction FunctionDeclaration
  expresses : IsFunction FunctionExpression
  is_arrow : IsFunction ArrowFunctionExpression

module _ (m : Label) (up : List Ancestor) where
  alike : (k : AstType) → IsFunction k → (old new : Fields) (i : ℕ) → Alike (ancestor k m old i 0) (ancestor k m new i 0)
  alike k declares old new i = record { kind = refl; label = refl; index = refl; labels = refl; derived = refl }
  alike k expresses old new i = record { kind = refl; label = refl; index = refl; labels = refl; derived = refl }
  alike k is_arrow old new i = record { kind = refl; label = refl; index = refl; labels = refl; derived = refl }

  function-loose : (k : AstType) → IsFunction k → (fs : Fields) (i : ℕ) → Loose (ancestor k m fs i 0 ∷ up)
  function-loose k declares fs i = level-loose FunctionDeclaration m fs i up refl
  function-loose k expresses fs i = level-loose FunctionExpression m fs i up refl
  function-loose k is_arrow fs i = loose m fs i 0 up ArrowFunctionExpression refl

  function-place : (k : AstType) → IsFunction k → (fs : Fields) (i : ℕ) → place_of (ancestor k m fs i 0 ∷ up) ≡ Other
  function-place k declares fs zero = refl
  function-place k declares fs (suc zero) = refl
  function-place k declares fs (suc (suc i)) = refl
  function-place k expresses fs zero = refl
  function-place k expresses fs (suc zero) = refl
  function-place k expresses fs (suc (suc i)) = refl
  function-place k is_arrow fs zero = refl
  function-place k is_arrow fs (suc zero) = refl
  function-place k is_arrow fs (suc (suc i)) = refl

  no-constructor : (k : AstType) → IsFunction k → (fs : Fields) (i : ℕ) → is_derived_constructor (ancestor k m fs i 0 ∷ up) ≡ false
  no-constructor k each fs i = at k each up
    where
      at : (k : AstType) → IsFunction k → (up : List Ancestor) → is_derived_constructor (ancestor k m fs i 0 ∷ up) ≡ false
      at k declares [] = refl
      at k declares (a ∷ up) = refl
      at k expresses [] = refl
      at k expresses (a ∷ up) = refl
      at k is_arrow [] = refl
      at k is_arrow (a ∷ up) = refl

from-other : (t : Tree) (p : Place) → p ≡ Other → PlaceGoes t p Other
from-other t p e = subst (λ (q : Place). PlaceGoes t q Other) (sym e) (within (same_place Other))

-- from a parameter, or from one with a default, to a declaration in the body
module _ (m l d : Label) (old new inner whole : Fields) (p : Tree) (it : Bound) (i j : ℕ) (up : List Ancestor) where
  abbrev parameter : AstType → List Ancestor
  parameter k = ancestor k m old i 0 ∷ up

  abbrev defaulted : AstType → List Ancestor
  defaulted k = ancestor AssignmentPattern d whole 0 0 ∷ parameter k

  abbrev body : AstType → List Ancestor
  body k = ancestor FunctionBody l inner 1 0 ∷ (ancestor k m new j 0 ∷ up)

  abbrev moved : AstType → List Ancestor
  moved k = in_the_declarator (codes "let") p it 0 (body k)

  pattern-offers : (k : AstType) → IsFunction k → Offers true (parameter k) (moved k)
  pattern-offers k declares = record { labels = refl; loop = λ j h. h; breakable = λ j h. h; function = λ h. h; members = λ h. h; calls = λ h. h; targets = λ h. h; in_module = refl; method = λ h. absurd (cc h); constructor = λ h. absurd (let e = no-constructor m up FunctionDeclaration declares old i in cc (e, h)); class = λ h. absurd (cc h) }
  pattern-offers k expresses = record { labels = refl; loop = λ j h. h; breakable = λ j h. h; function = λ h. h; members = λ h. h; calls = λ h. h; targets = λ h. h; in_module = refl; method = λ h. absurd (cc h); constructor = λ h. absurd (let e = no-constructor m up FunctionExpression expresses old i in cc (e, h)); class = λ h. absurd (cc h) }
  pattern-offers k is_arrow = record { labels = refl; loop = λ j h. h; breakable = λ j h. h; function = λ h. h; members = λ h. h; calls = λ h. h; targets = λ h. h; in_module = refl; method = λ h. absurd (cc h); constructor = λ h. absurd (let e = no-constructor m up ArrowFunctionExpression is_arrow old i in cc (e, h)); class = λ h. absurd (cc h) }

  default-offers : (k : AstType) → IsFunction k → Offers true (defaulted k) (moved k)
  default-offers k declares = record { labels = refl; loop = λ j h. h; breakable = λ j h. h; function = λ h. h; members = λ h. h; calls = λ h. h; targets = λ h. h; in_module = refl; method = λ h. absurd (cc h); constructor = λ h. absurd (cc h); class = λ h. absurd (cc h) }
  default-offers k expresses = record { labels = refl; loop = λ j h. h; breakable = λ j h. h; function = λ h. h; members = λ h. h; calls = λ h. h; targets = λ h. h; in_module = refl; method = λ h. absurd (cc h); constructor = λ h. absurd (cc h); class = λ h. absurd (cc h) }
  default-offers k is_arrow = record { labels = refl; loop = λ j h. h; breakable = λ j h. h; function = λ h. h; members = λ h. h; calls = λ h. h; targets = λ h. h; in_module = refl; method = λ h. absurd (cc h); constructor = λ h. absurd (cc h); class = λ h. absurd (cc h) }

  pattern-moves : (k : AstType) → IsFunction k → Keeps (parameter k) p → Keeps (moved k) p
  pattern-moves k declares h = goes (parameter FunctionDeclaration) (moved FunctionDeclaration) (function-loose m up FunctionDeclaration declares old i) (declarator-loose (made [] []) (one p then one (identifier it) then done) 0 (in_the_declaration (codes "let") p it (body FunctionDeclaration))) true (pattern-offers FunctionDeclaration declares) p (super-moved (parameter FunctionDeclaration) (moved FunctionDeclaration) true (pattern-offers FunctionDeclaration declares) (λ x. x) (λ x. x) p) (from-other p (place_of (parameter FunctionDeclaration)) (function-place m up FunctionDeclaration declares old i)) (λ e. absurd (cc e)) h
  pattern-moves k expresses h = goes (parameter FunctionExpression) (moved FunctionExpression) (function-loose m up FunctionExpression expresses old i) (declarator-loose (made [] []) (one p then one (identifier it) then done) 0 (in_the_declaration (codes "let") p it (body FunctionExpression))) true (pattern-offers FunctionExpression expresses) p (super-moved (parameter FunctionExpression) (moved FunctionExpression) true (pattern-offers FunctionExpression expresses) (λ x. x) (λ x. x) p) (from-other p (place_of (parameter FunctionExpression)) (function-place m up FunctionExpression expresses old i)) (λ e. absurd (cc e)) h
  pattern-moves k is_arrow h = goes (parameter ArrowFunctionExpression) (moved ArrowFunctionExpression) (function-loose m up ArrowFunctionExpression is_arrow old i) (declarator-loose (made [] []) (one p then one (identifier it) then done) 0 (in_the_declaration (codes "let") p it (body ArrowFunctionExpression))) true (pattern-offers ArrowFunctionExpression is_arrow) p (super-moved (parameter ArrowFunctionExpression) (moved ArrowFunctionExpression) true (pattern-offers ArrowFunctionExpression is_arrow) (λ x. x) (λ x. x) p) (from-other p (place_of (parameter ArrowFunctionExpression)) (function-place m up ArrowFunctionExpression is_arrow old i)) (λ e. absurd (cc e)) h

  default-moves : (k : AstType) → IsFunction k → Keeps (defaulted k) p → Keeps (moved k) p
  default-moves k declares h = goes (defaulted FunctionDeclaration) (moved FunctionDeclaration) (loose d whole 0 0 (parameter FunctionDeclaration) AssignmentPattern refl) (declarator-loose (made [] []) (one p then one (identifier it) then done) 0 (in_the_declaration (codes "let") p it (body FunctionDeclaration))) true (default-offers FunctionDeclaration declares) p (super-moved (defaulted FunctionDeclaration) (moved FunctionDeclaration) true (default-offers FunctionDeclaration declares) (λ x. x) (λ x. x) p) (within (same_place Other)) (λ e. absurd (cc e)) h
  default-moves k expresses h = goes (defaulted FunctionExpression) (moved FunctionExpression) (loose d whole 0 0 (parameter FunctionExpression) AssignmentPattern refl) (declarator-loose (made [] []) (one p then one (identifier it) then done) 0 (in_the_declaration (codes "let") p it (body FunctionExpression))) true (default-offers FunctionExpression expresses) p (super-moved (defaulted FunctionExpression) (moved FunctionExpression) true (default-offers FunctionExpression expresses) (λ x. x) (λ x. x) p) (within (same_place Other)) (λ e. absurd (cc e)) h
  default-moves k is_arrow h = goes (defaulted ArrowFunctionExpression) (moved ArrowFunctionExpression) (loose d whole 0 0 (parameter ArrowFunctionExpression) AssignmentPattern refl) (declarator-loose (made [] []) (one p then one (identifier it) then done) 0 (in_the_declaration (codes "let") p it (body ArrowFunctionExpression))) true (default-offers ArrowFunctionExpression is_arrow) p (super-moved (defaulted ArrowFunctionExpression) (moved ArrowFunctionExpression) true (default-offers ArrowFunctionExpression is_arrow) (λ x. x) (λ x. x) p) (within (same_place Other)) (λ e. absurd (cc e)) h

-- WHAT A FUNCTION BECOMES

still : (p : Place) → p ≡ Other → Still p
still p e = subst (λ (q : Place). Still q) (sym e) still_other

abbrev is_same_kind : AstType → Bool
is_same_kind AssignmentPattern = true
is_same_kind FunctionBody = true
is_same_kind _ = false

same-fields : (k : AstType) (l : Label) (old new : Fields) (i : ℕ) → is_same_kind k ≡ true → Alike (ancestor k l old i 0) (ancestor k l new i 0)
same-fields AssignmentPattern l old new i e = record { kind = refl; label = refl; index = refl; labels = refl; derived = refl }
same-fields FunctionBody l old new i e = record { kind = refl; label = refl; index = refl; labels = refl; derived = refl }
same-fields _ l old new i e = absurd (cc e)

record HeldKeeps (new_parameter moved_to : List Ancestor) (p u : Tree) : Type 0 where
  left : Keeps new_parameter u
  pattern : Keeps moved_to p

module _ (m l : Label) (old new : Fields) (i j : ℕ) (up : List Ancestor) (k : AstType) (each : IsFunction k) (ds : Trees) (w : Whole) (x : Text) where
  abbrev old_parameter : List Ancestor
  old_parameter = ancestor k m old i 0 ∷ up

  abbrev new_parameter : List Ancestor
  new_parameter = ancestor k m new i 0 ∷ up

  abbrev old_function : List Ancestor
  old_function = ancestor k m old j 0 ∷ up

  abbrev new_function : List Ancestor
  new_function = ancestor k m new j 0 ∷ up

  abbrev in_body : Trees → List Ancestor
  in_body us = ancestor FunctionBody l (body_fields ds us) 1 0 ∷ new_function

  held-keeps : (us : Trees) (pl : Label) (ps : Fields) (t u : Tree) → HoldsPattern (next_name w x) (node ObjectPattern pl ps) t u → Keeps old_parameter t → HeldKeeps new_parameter (in_the_declarator (codes "let") (node ObjectPattern pl ps) (next_name w x) 0 (in_body us)) (node ObjectPattern pl ps) u
  held-keeps us pl ps t u alone g = record {
    left = name-keeps new_parameter (next_name w x) (function-loose m up k each new i) (still (place_of new_parameter) (function-place m up k each new i));
    pattern = pattern-moves m l l old new (body_fields ds us) done (node ObjectPattern pl ps) (next_name w x) i j up k each g;
  }
  held-keeps us pl ps t u (with_default {l = d} {d = e} silent) g =
      let p : Tree = node ObjectPattern pl ps in
      let it = identifier (next_name w x) in
      let whole : Fields = one p then one e then done in
      let left : Fields = one it then one e then done in
      let there = again up up (ancestor k m old i 0) (ancestor k m new i 0) (alike m up k each old new i) (offers-self up) (near-self up) (node AssignmentPattern d whole) g in
      let name = name-keeps (ancestor AssignmentPattern d left 0 0 ∷ new_parameter) (next_name w x) (loose d left 0 0 new_parameter AssignmentPattern refl) still_other in
      let value = again new_parameter new_parameter (ancestor AssignmentPattern d whole 1 0) (ancestor AssignmentPattern d left 1 0) (same-fields AssignmentPattern d whole left 1 refl) (offers-self new_parameter) (near-self new_parameter) e there.1.1.0 in
      record {
        left = (calm-again new_parameter AssignmentPattern d d whole left refl there.0, (name, (value, tt)));
        pattern = default-moves m l d old new (body_fields ds us) whole p (next_name w x) i j up k each g.1.0;
      }

  record FunctionKeeps (qs us : Trees) : Type 0 where
    parameters : KeepsAll new_parameter qs
    statements_keep : Keeps new_function (node FunctionBody l (body_fields ds us))

  function-keeps : (ps qs directives ts us : Trees) → MovesParameter w x ps qs directives ts us → KeepsAll old_parameter ps → Keeps old_function (node FunctionBody l (body_fields ds ts)) → FunctionKeeps qs us
  function-keeps ps qs directives ts us (moves_one a c directives_too es rest pl fs t u holds moved held may) h g =
      let p : Tree = node ObjectPattern pl fs in
      let it = next_name w x in
      let statements_new = joined_trees es (let_statement p it before rest) in
      let inner : Fields = body_fields ds (joined_trees es rest) in
      let left : Fields = body_fields ds statements_new in
      let parts = all-parts old_parameter a (t before c) h in
      let it_keeps = held-keeps statements_new pl fs t u held parts.1.0 in
      let among = λ (ts : Trees) (k1 : KeepsAll old_parameter ts). all-again up up (ancestor k m old i 0) (ancestor k m new i 0) (alike m up k each old new i) (offers-self up) (near-self up) ts k1 in
      let there = again up up (ancestor k m old j 0) (ancestor k m new j 0) (alike m up k each old new j) (offers-self up) (near-self up) (node FunctionBody l inner) g in
      let directives_keep = all-again new_function new_function (ancestor FunctionBody l inner 0 0) (ancestor FunctionBody l left 0 0) (same-fields FunctionBody l inner left 0 refl) (offers-self new_function) (near-self new_function) ds there.1.0 in
      let others = all-parts (in_body statements_new) es rest (all-again new_function new_function (ancestor FunctionBody l inner 1 0) (ancestor FunctionBody l left 1 0) (same-fields FunctionBody l inner left 1 refl) (offers-self new_function) (near-self new_function) (joined_trees es rest) there.1.1.0) in
      let first = moved-keeps (codes "let") p it (in_body statements_new) (loose l left 1 0 new_function FunctionBody refl) still_other refl it_keeps.pattern in
      record {
        parameters = all-joined new_parameter a (u before c) (among a parts.0) (it_keeps.left, among c parts.1.1);
        statements_keep = (calm-again new_function FunctionBody l l inner left refl there.0, (directives_keep, (all-joined (in_body statements_new) es (let_statement p it before rest) others.0 (first, others.1), tt)));
      }

-- NO MORE PARAMETERS, nor fewer, and no other is a rest

held-mark : (b : Bound) (l : Label) (ps : Fields) (t u : Tree) (c : Trees) → HoldsPattern b (node ObjectPattern l ps) t u → marks (face_trees (t before c)) ≡ marks (face_trees (u before c))
held-mark b l ps t u c alone = refl
held-mark b l ps t u c (with_default silent) = refl

marks-joined : (a : Trees) (t u : Tree) (c : Trees) → marks (face_trees (t before c)) ≡ marks (face_trees (u before c)) → marks (face_trees (joined_trees a (t before c))) ≡ marks (face_trees (joined_trees a (u before c)))
marks-joined empty t u c h = h
marks-joined (node k l fs before a) t u c h = ap (λ ts. joined_trees (marks (face_trees (node k l fs before empty))) ts) (marks-joined a t u c h)

same-marks : (w : Whole) (x : Text) (ps qs ds ts us : Trees) → MovesParameter w x ps qs ds ts us → marks (face_trees ps) ≡ marks (face_trees qs)
same-marks w x ps qs directives ts us (moves_one a c ds es rest l fs t u holds moved held may) = marks-joined a t u c (held-mark (next_name w x) l fs t u c held)

-- THE RULE

pub parameter-faced : FaceLawful ParameterRest
parameter-faced = record { at_nodes = parameter-only; leaves = leaves }
  where
    named-function : (k : AstType) → IsFunction k → (m l : Label) (g : Field) (ps qs ds ts us : Trees) (w : Whole) (x : Text) (up : List Ancestor) → MovesParameter w x ps qs ds ts us → Keeps up (node k m (g then many ps then one (node FunctionBody l (body_fields ds ts)) then done)) → is_calm k ≡ true → Keeps up (node k m (g then many qs then one (node FunctionBody l (body_fields ds us)) then done))
    named-function k each m l g ps qs ds ts us w x up moved h e =
        let old : Fields = g then many ps then one (node FunctionBody l (body_fields ds ts)) then done in
        let new : Fields = g then many qs then one (node FunctionBody l (body_fields ds us)) then done in
        let r = function-keeps m l old new 1 2 up k each ds w x ps qs ds ts us moved h.1.1.0 h.1.1.1.0 in
        (calm-again up k m m old new e h.0, (field-again up up (ancestor k m old 0 0) (ancestor k m new 0 0) (alike m up k each old new 0) (offers-self up) (near-self up) g h.1.0, (r.parameters, (r.statements_keep, tt))))

    leaves : (n : Site) (s s' : Ledger) (t u : Tree) (a : Sort) (up : List Ancestor) → ParameterRest n s (at_node t) s' (at_node u) → has_form a t ≡ true → Keeps up t → NodeFaced up s s' t u
    leaves n s s' t u a up (in_declaration {w = w} {m = m} {l = l} {f = g} {ps = ps} {qs = qs} {ds = ds} {ts = ts} {us = us} {x = x} fresh called moved) f h =
        record { keeps = named-function FunctionDeclaration declares m l g ps qs ds ts us w x up moved h refl; seen = refl; beside = record { pending = refl; this = refl; top = refl } }
    leaves n s s' t u a up (in_expression {w = w} {m = m} {l = l} {f = g} {ps = ps} {qs = qs} {ds = ds} {ts = ts} {us = us} {x = x} fresh called moved) f h =
        record { keeps = named-function FunctionExpression expresses m l g ps qs ds ts us w x up moved h refl; seen = ap (λ xs. node FunctionExpression m (missing then many xs then done)) (same-marks w x ps qs ds ts us moved); beside = record { pending = refl; this = refl; top = refl } }
    leaves n s s' t u a up (in_arrow {w = w} {m = m} {l = l} {ps = ps} {qs = qs} {ds = ds} {ts = ts} {us = us} {x = x} fresh moved) f h =
        let old : Fields = many ps then one (node FunctionBody l (body_fields ds ts)) then done in
        let new : Fields = many qs then one (node FunctionBody l (body_fields ds us)) then done in
        let r = function-keeps m l old new 0 1 up ArrowFunctionExpression is_arrow ds w x ps qs ds ts us moved h.1.0 h.1.1.0 in
        record { keeps = (calm-again up ArrowFunctionExpression m m old new refl h.0, (r.parameters, (r.statements_keep, tt))); seen = refl; beside = record { pending = refl; this = refl; top = refl } }
