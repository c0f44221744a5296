-- Optional catch and object spread keep the static rules of places.
use Rattle.std.proofs.Common.{◌≡◌, ℕ, inl, refl, List, [], ◌∷◌, ◌++◌}
use Rattle.std.specs.Prelude.{Bool, true, false, ◌||◌, Option, Some, None, codes, is_some}
use Rattle.es_tree.specs.Ancestors.{Ancestor, ancestor}
use Rattle.es_tree.specs.Constructs.{any_kind, is_spread}
use Rattle.es_tree.specs.HasForm.{has_form}
use Rattle.es_tree.specs.Tree.{Tree, Label, Fields, done, ◌then◌, missing, one, many, Trees, kind_of, trees}
use Rattle.es_tree.specs.declared.ast_type.AstType.TheVariants.{CallExpression, CatchClause, Identifier, ObjectExpression, SpreadElement}
use Rattle.es_tree.specs.declared.table.Sort.{Sort}
use Rattle.es_tree.specs.declared.table.Sort.TheVariants.{Expression as s-Expression}
use Rattle.es_runs.proofs.RowKinds.{is_left_kind}
use Rattle.es_resolution.specs.Declarations.{Bound}
use Rattle.es_steps.specs.Nodes.{call_node, identifier, made, object_node, placed, word}
use Rattle.es_steps.specs.ObjectRest.{helper_node}
use Rattle.es_steps.specs.ObjectSpread.{Copies, SpreadRule, copied, last_copied}
use Rattle.es_steps.specs.ObjectSpread.Copies.{no_more, copies, keeps}
use Rattle.es_steps.specs.ObjectSpread.SpreadRule.{spreads}
use Rattle.es_steps.specs.OptionalCatch.{CatchRule}
use Rattle.es_steps.specs.OptionalCatch.CatchRule.{catches}
use Rattle.es_steps.specs.Rules.{Replacing}
use Rattle.es_steps.specs.Rules.Replacing.{replaces}
use Rattle.es_steps.specs.Slots.{is_slot}
use Rattle.es_steps.specs.Steps.{Ledger, Site}
use Rattle.es_steps.specs.Steps.Spot.{at_node}
use Rattle.es_valid_steps.specs.PlaceRules.{Keeps, KeepsAll, KeepsHere}
use Rattle.es_valid_steps.proofs.Changed.{ChangedFields}
use Rattle.es_valid_steps.proofs.Changed.Changed.{inside, row}
use Rattle.es_valid_steps.proofs.Changed.ChangedField.{same_field, unseen}
use Rattle.es_valid_steps.proofs.Changed.ChangedFields.{ends, more}
use Rattle.es_valid_steps.proofs.Free.{Free, FreeAll, as-free, free-as, made-there, part}
use Rattle.es_valid_steps.proofs.Free.From.{from_other}
use Rattle.es_valid_steps.proofs.Free.Under.{deeper, itself}
use Rattle.es_valid_steps.proofs.FurtherForms.{or-later, or-none}
use Rattle.es_valid_steps.proofs.KeptNodes.{node-kept}
use Rattle.es_valid_steps.proofs.Loose.{loose}
use Rattle.es_valid_steps.proofs.MadeNodes.{free-call, free-empty, free-member, free-more, free-name, free-object, in-call, is_acted, left-keeps}
use Rattle.es_valid_steps.proofs.PlaceRows.{NodeKept, PlaceLawful}
use Rattle.es_valid_steps.proofs.Slots.{SlotHead}

-- OPTIONAL CATCH: the clause is the same to its body, and its parameter a name

pub catch-lawful : PlaceLawful CatchRule
catch-lawful = record { at_nodes = nodes }
  where
    nodes : (turns : Bool) (n : Site) (s s' : Ledger) (t u : Tree) (a : Sort) (up : List Ancestor) → (is_slot n.above ≡ true → a ≡ s-Expression) → (is_slot n.above ≡ true → SlotHead up) → CatchRule n s (at_node t) s' (at_node u) → has_form a t ≡ true → Keeps up t → NodeKept turns n up t u
    nodes turns n s s' t u a up slot head (catches {w = w} {m = m} {body = body} {x = x} fresh) f h =
        let b : Bound = record { name = x; symbol = Some w.free_symbol } in
        let old : Fields = missing then one body then done in
        let new : Fields = one (identifier b) then one body then done in
        let changed : ChangedFields turns CatchClause old new = more (unseen refl) (more same_field ends) in
        let there = ancestor CatchClause m old 0 0 ∷ up in
        let param = made-there there Identifier (record (made (Some x ∷ []) []) { marks = Some w.free_symbol ∷ [] }) done (loose m old 0 0 up CatchClause refl) refl refl refl refl in
        record { keeps = node-kept a up CatchClause m old new f (λ v. record { accessor = refl; operand = λ e. refl }) changed h.0 ((param, tt), (h.1.1.0, tt)); seen = inl (inside changed) }

-- OBJECT SPREAD

-- what a rule leaves in the place of an expression
record NodeLeft (up : List Ancestor) (t u : Tree) : Type 0 where
  keeps : Keeps up u
  left : is_left_kind (kind_of u) ≡ true

-- a call of the helper on expressions that keep the rules wherever there is room
data CopyFree (up : List Ancestor) (f : Tree) : Option Tree → Type 0 where
  no_copy : CopyFree up f None
  a_copy : (ts : List Tree) → FreeAll up (trees ts) → CopyFree up f (Some (call_node f ts))

abbrev AreFree : List Ancestor → List Tree → Type 0
AreFree up [] = Unit {0}
AreFree up (t ∷ ts) = Free up t × AreFree up ts

are-more : (up : List Ancestor) (ts us : List Tree) → AreFree up ts → AreFree up us → AreFree up (ts ++ us)
are-more up [] us h k = k
are-more up (t ∷ ts) us h k = (h.0, are-more up ts us h.1 k)

all-are : (up : List Ancestor) (ts : List Tree) → AreFree up ts → FreeAll up (trees ts)
all-are up [] h = free-empty up
all-are up (t ∷ ts) h = free-more up t (trees ts) h.0 (all-are up ts h.1)

module _ (up : List Ancestor) (f : Tree) (h : Free up f) where
  copy-free : (c : Tree) → CopyFree up f (Some c) → Free up c
  copy-free c (a_copy ts k) = free-call up (made [] (false ∷ [])) f (trees ts) refl (free-as true false up f h) k

  object-free : (ps : List Tree) → AreFree up ps → Free up (object_node ps)
  object-free ps k = free-object up (made [] []) (trees ps) (all-are up ps k)

  copied-free : (c : Option Tree) (ps : List Tree) (e : Tree) → CopyFree up f c → AreFree up ps → Free up e → CopyFree up f (Some (copied f c ps e))
  copied-free None ps e g k j = a_copy (object_node ps ∷ e ∷ []) (all-are up (object_node ps ∷ e ∷ []) (object-free ps k, (j, tt)))
  copied-free (Some c) [] e g k j = a_copy (c ∷ e ∷ []) (all-are up (c ∷ e ∷ []) (copy-free c g, (j, tt)))
  copied-free (Some c) (p ∷ ps) e g k j = a_copy (c ∷ object_node [] ∷ object_node (p ∷ ps) ∷ e ∷ []) (all-are up (c ∷ object_node [] ∷ object_node (p ∷ ps) ∷ e ∷ []) (copy-free c g, (object-free [] tt, (object-free (p ∷ ps) k, (j, tt)))))

  last-free : (c : Option Tree) (ps : List Tree) → is_some c ≡ true → CopyFree up f c → AreFree up ps → CopyFree up f (Some (last_copied f c ps))
  last-free None ps e g k = absurd (cc e)
  last-free (Some c) [] e g k = g
  last-free (Some c) (p ∷ ps) e g k = a_copy (c ∷ object_node [] ∷ object_node (p ∷ ps) ∷ []) (all-are up (c ∷ object_node [] ∷ object_node (p ∷ ps) ∷ []) (copy-free c g, (object-free [] tt, (object-free (p ∷ ps) k, tt))))

  -- the properties stood in an object literal
  copies-free : (m : Label) (all : Fields) (c : Option Tree) (ps : List Tree) (ts : Trees) (u : Tree) → Copies f c ps ts u → (is_some c || any_kind is_spread ts) ≡ true → CopyFree up f c → AreFree up ps → KeepsAll (ancestor ObjectExpression m all 0 0 ∷ up) ts → CopyFree up f (Some u)
  copies-free m all c ps ts u no_more e g k j = last-free c ps (or-none (is_some c) e) g k
  copies-free m all c ps ts u (copies {l = l} {e = x} {ts = rest} r) e g k j =
      let value = as-free up x (part up (ancestor ObjectExpression m all 0 0 ∷ up) SpreadElement l (one x then done) 0 x (deeper refl itself) refl from_other j.0.1.0) in
      copies-free m all (Some (copied f c ps x)) [] rest u r refl (copied-free c ps x g k value) tt j.1
  copies-free m all c ps ts u (keeps {t = t} {ts = rest} other r) e g k j =
      let here = as-free up t (part up up ObjectExpression m all 0 t itself refl from_other j.0) in
      copies-free m all c (ps ++ t ∷ []) rest u r (or-later (is_some c) (is_spread (kind_of t)) (any_kind is_spread rest) other e) g (are-more up ps (t ∷ []) k (here, tt)) j.1

  placed-keeps : (t : Tree) (m : Label) (u : Tree) → is_acted (kind_of t) ≡ true → KeepsHere up t → CopyFree up f (Some u) → NodeLeft up t (placed m u)
  placed-keeps t m u acted here (a_copy ts k) = record { keeps = left-keeps up t CallExpression (record (made [] (false ∷ [])) { start = m.start; stop = m.stop }) (one f then many (trees ts) then done) acted here refl refl (in-call up (record (made [] (false ∷ [])) { start = m.start; stop = m.stop }) f (trees ts) refl (free-as true false up f h) k); left = refl }

pub helper-free : (up : List Ancestor) (x : List ℕ) → Free up (helper_node x)
helper-free up x = free-member up (made [] (false ∷ false ∷ [])) (word (codes "babelHelpers")) (word x) refl (free-as false true up (word (codes "babelHelpers")) (free-name up _)) (free-name up _)

pub spread-lawful : PlaceLawful (Replacing SpreadRule)
spread-lawful = record { at_nodes = nodes }
  where
    nodes : (turns : Bool) (n : Site) (s s' : Ledger) (t u : Tree) (a : Sort) (up : List Ancestor) → (is_slot n.above ≡ true → a ≡ s-Expression) → (is_slot n.above ≡ true → SlotHead up) → Replacing SpreadRule n s (at_node t) s' (at_node u) → has_form a t ≡ true → Keeps up t → NodeKept turns n up t u
    nodes turns n s s' t u a up slot head (replaces bs (spreads {m = m} {ps = ps} {u = v} unbound used some silent r)) f h =
        let helper = helper_node (codes "objectSpread2") in
        let free = helper-free up (codes "objectSpread2") in
        let left = placed-keeps up helper free t m v refl h.0 (copies-free up helper free m (many ps then done) None [] ps v r some no_copy tt h.1.0) in
        record { keeps = left.keeps; seen = inl (row refl left.left) }
