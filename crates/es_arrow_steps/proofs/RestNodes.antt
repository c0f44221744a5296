-- What comes of an assignment to a pattern with a rest, by its nodes: where something holds of the value and of the parts of the pattern, and of made
-- nodes wherever it holds of what they are made of, it holds of the whole.
use Rattle.std.proofs.Common.{◌≡◌, refl, List, [], ◌∷◌, ◌++◌}
use Rattle.std.specs.Prelude.{Bool, true, false, None, codes}
use Rattle.es_tree.specs.RestTargets.{is_rest_target}
use Rattle.es_tree.specs.Tree.{Tree, Label, one, Trees}
use Rattle.es_tree.specs.Words.{Text}
use Rattle.es_resolution.specs.Declarations.{Bound}
use Rattle.es_steps.specs.Nodes.{array_node, assign_node, call_node, identifier, made, member_node, object_node, placed, sequence_node, string_node}
use Rattle.es_steps.specs.ObjectRest.{helper_node, left_of, whole_value}
use Rattle.es_steps.specs.RestAssignments.{TakesTarget, object_target, property_target, rest_target, value_after}
use Rattle.es_steps.specs.Steps.{Whole}
use Rattle.es_steps.proofs.RestParts.{EachAmong, EachTree, IsLeft, PartsRight, each-append, each-name, each-part, parts-right, simple-target}
use Rattle.es_steps.proofs.RestParts.IsLeft.{name_left, text_left}

pub record NodesRight (P : Tree → Type 0) : Type 0 where
  pub name : (x : Bound) → P (identifier x)
  pub text : (x : Text) → P (string_node x)
  pub member : (o : Tree) (x : Text) → P o → P (member_node o x)
  pub array : (ts : List Tree) → EachTree P ts → P (array_node ts)
  pub object : P (object_node [])
  pub call : (f : Tree) (ts : List Tree) → P f → EachTree P ts → P (call_node f ts)
  pub sequence : (m : Label) (ts : List Tree) → EachTree P ts → P (placed m (sequence_node ts))
  -- none is to a pattern with a rest
  pub assignment : (t e : Tree) → is_rest_target (one t) ≡ false → P t → P e → P (assign_node t e)
  pub group : (l : Label) (ps : List Tree) → is_rest_target (one (object_target l ps)) ≡ false → EachTree P ps → P (object_target l ps)
  -- of the pattern: a key, a property with a name for its key, and what the rest is assigned to
  pub key : (l : Label) (k v : Tree) → P (property_target l k v) → P k
  pub keyed : (l : Label) (k v : Tree) (x : Bound) → P (property_target l k v) → P (property_target l (identifier x) v)
  pub rest : (l : Label) (t : Tree) → P (rest_target l t) → P t

module _ (P : Tree → Type 0) (right : NodesRight P) where
  keys-right : (ks : List Tree) → EachTree (IsLeft (λ x. Unit {0})) ks → EachTree P ks
  keys-right [] h = tt
  keys-right (k ∷ ks) h = (key-right k h.0, keys-right ks h.1)
    where
      key-right : (k : Tree) → IsLeft (λ x. Unit {0}) k → P k
      key-right k (text_left x) = right.text x
      key-right k (name_left x h) = right.name x

  helper-right : (x : Text) → P (helper_node x)
  helper-right x = right.member _ x (right.name (record { name = codes "babelHelpers"; symbol = None }))

  left-right : (read : Bool) (s : Tree) (ks : List Tree) → P s → EachTree P ks → P (left_of read s ks)
  left-right true s ks h k = right.call _ (s ∷ call_node (member_node (array_node ks) (codes "map")) (helper_node (codes "toPropertyKey") ∷ []) ∷ []) (helper-right (codes "objectWithoutProperties")) (h, (right.call _ (helper_node (codes "toPropertyKey") ∷ []) (right.member _ (codes "map") (right.array ks k)) (helper-right (codes "toPropertyKey"), tt), tt))
  left-right false s ks h k = right.call _ (s ∷ array_node ks ∷ []) (helper-right (codes "objectWithoutProperties")) (h, (right.array ks k, tt))

  whole-right : (s : Tree) → P s → P (whole_value s)
  whole-right s h =
      let empties = right.call _ (s ∷ []) (helper-right (codes "objectDestructuringEmpty")) (h, tt) in
      let row = call_node (helper_node (codes "objectDestructuringEmpty")) (s ∷ []) ∷ s ∷ [] in
      right.call _ (object_node [] ∷ sequence_node row ∷ []) (helper-right (codes "extends")) (right.object, (right.sequence (made [] []) row (empties, (h, tt)), tt))

  rest-parts : (s : Tree) (lp : Label) → P s → PartsRight s lp (λ x. Unit {0}) P P P
  rest-parts s lp h = record {
    last = λ ps e k. right.assignment (object_target lp ps) s e (right.group lp ps e k) h;
    group = λ ps e k. right.assignment (object_target (made [] []) ps) s e (right.group (made [] []) ps e k) h;
    key = λ x l k v e z p. right.assignment (identifier x) k refl (right.name x) (right.key l k v p);
    keyed = λ x l k v e z p. right.keyed l k v x p;
    rest = λ read ks l t e k p. right.assignment t (left_of read s ks) (simple-target t e) (right.rest l t p) (left-right read s ks h (keys-right ks k));
    whole = λ l t e p. right.assignment t (whole_value s) (simple-target t e) (right.rest l t p) (whole-right s h);
  }

  value-right : (unused : Bool) (x : Bound) → EachTree P (value_after unused x)
  value-right true x = tt
  value-right false x = (right.name x, tt)

  -- of the whole, where it holds of the properties of the pattern and of the value
  pub row-right : (w : Whole) (lp m : Label) (ps : Trees) (e : Tree) (x : Bound) (xs : List Bound) (us : List Tree) (unused : Bool) → TakesTarget (identifier x) lp w ps xs us → EachAmong P ps → P e → P (placed m (sequence_node (assign_node (identifier x) e ∷ us ++ value_after unused x)))
  row-right w lp m ps e x xs us unused takes h k =
      let stored = right.assignment (identifier x) e refl (right.name x) k in
      let parts = parts-right (identifier x) lp (λ x. Unit {0}) P P P (rest-parts (identifier x) lp (right.name x)) w ps xs us takes (each-name xs) (each-part P ps h) in
      right.sequence m (assign_node (identifier x) e ∷ us ++ value_after unused x) (stored, each-append P us (value_after unused x) parts (value-right unused x))
