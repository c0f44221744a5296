-- Optional catch and object spread keep form.
use Rattle.std.proofs.Common.{◌≡◌, refl, List, [], ◌∷◌, ◌++◌}
use Rattle.std.specs.Prelude.{Bool, true, false, not, ◌||◌, Option, Some, None, codes, is_some}
use Rattle.std.proofs.lemmas.Bool.{and_from}
use Rattle.es_tree.specs.Constructs.{any_kind, is_spread}
use Rattle.es_tree.specs.HasForm.{has_form, is_of_sort, trees_form}
use Rattle.es_tree.specs.Table.{takes_expressions}
use Rattle.es_tree.specs.Tree.{Tree, node, Label, done, ◌then◌, missing, one, many, Trees, kind_of, trees}
use Rattle.es_tree.specs.declared.ast_type.AstType.TheVariants.{CatchClause, ObjectExpression, SpreadElement}
use Rattle.es_tree.specs.declared.table.Sort.{Sort}
use Rattle.es_tree.specs.declared.table.Sort.TheVariants.{Argument as s-Argument, Expression as s-Expression, ObjectMember as s-ObjectMember, Program as s-Program}
use Rattle.es_tree.proofs.NodeForm.{node_form, has_form-node}
use Rattle.es_resolution.specs.Declarations.{Bound}
use Rattle.es_steps.specs.Nodes.{call_node, identifier, made, object_node, placed}
use Rattle.es_steps.specs.ObjectRest.{helper_node}
use Rattle.es_steps.specs.ObjectSpread.{Copies, SpreadRule, copied, last_copied}
use Rattle.es_steps.specs.ObjectSpread.Copies.{no_more, copies, keeps}
use Rattle.es_steps.specs.ObjectSpread.SpreadRule.{spreads}
use Rattle.es_steps.specs.OptionalCatch.{CatchRule}
use Rattle.es_steps.specs.OptionalCatch.CatchRule.{catches}
use Rattle.es_steps.specs.Rules.{Replacing}
use Rattle.es_steps.specs.Rules.Replacing.{replaces}
use Rattle.es_steps.specs.Slots.{is_slot}
use Rattle.es_steps.specs.Steps.{Ledger, Site, Spot}
use Rattle.es_steps.specs.Steps.Spot.{at_node}
use Rattle.es_steps.proofs.FormLists.{first-formed}
use Rattle.es_steps.proofs.FormMembers.{formed-call, formed-first}
use Rattle.es_steps.proofs.FormParts.{HasSpan, IsFormed, and-left, no-span, span-of}
use Rattle.es_steps.proofs.FormPowers.{AreFormed}
use Rattle.es_steps.proofs.FormRows.{next-text}
use Rattle.es_steps.proofs.FormRules.{AtNodes, FormLawful, NodeFormed, no-names, nodes-only}
use Rattle.es_steps.proofs.FormSorts.{form-wider}

-- OPTIONAL CATCH

pub catch-nodes : (n : Site) (s s' : Ledger) (x y : Spot) → CatchRule n s x s' y → AtNodes x y
catch-nodes n s s' x y (catches fresh) = tt

pub catch-form : FormLawful CatchRule
catch-form = nodes-only CatchRule catch-nodes nodes
  where
    nodes : (n : Site) (s s' : Ledger) (t u : Tree) (a : Sort) → (is_slot n.above ≡ true → a ≡ s-Expression) → CatchRule n s (at_node t) s' (at_node u) → has_form a t ≡ true → NodeFormed a s s' u
    nodes n s s' t u a slot (catches {w = w} {p = p} {m = m} {body = body} {x = x} fresh) h =
        let b : Bound = record { name = x; symbol = Some w.free_symbol } in
        let f = node_form a CatchClause m (missing then one body then done) h in
        let named = next-text w (codes "unused") b (record { fresh = fresh; symbol = refl }) in
        let inner = f.children in
        record {
          formed = has_form-node a CatchClause m (one (identifier b) then one body then done) (record { sort = f.sort; texts = f.texts; flags = f.flags; start = f.start; stop = f.stop; agree = refl; children = rw named inner });
          names = record { names = []; texts = tt; pending = no-names p; this = refl; top = refl };
        }

-- OBJECTS AND CALLS

abbrev AreMembers : List Tree → Type 0
AreMembers [] = Unit {0}
AreMembers (p ∷ ps) = (has_form s-ObjectMember p ≡ true) × AreMembers ps

members-more : (ps qs : List Tree) → AreMembers ps → AreMembers qs → AreMembers (ps ++ qs)
members-more [] qs h k = k
members-more (p ∷ ps) qs h k = (h.0, members-more ps qs h.1 k)

members-list : (ps : List Tree) → AreMembers ps → trees_form s-ObjectMember s-ObjectMember (trees ps) ≡ true
members-list [] h = refl
members-list (p ∷ ps) h = formed-first s-ObjectMember p (trees ps) h.0 (members-list ps h.1)

pub formed-object : (ps : List Tree) → AreMembers ps → IsFormed (object_node ps)
formed-object ps h =
    let span = no-span [] [] in
    has_form-node s-Expression ObjectExpression (made [] []) (many (trees ps) then done) (record { sort = refl; texts = refl; flags = refl; start = span.start; stop = span.stop; agree = refl; children = and_from _ true (members-list ps h) refl })

arguments-list : (ts : List Tree) → AreFormed ts → trees_form s-Argument s-Argument (trees ts) ≡ true
arguments-list [] h = refl
arguments-list (t ∷ ts) h = formed-first s-Argument t (trees ts) (form-wider s-Argument t refl h.0) (arguments-list ts h.1)

pub formed-called : (f : Tree) (ts : List Tree) → IsFormed f → AreFormed ts → IsFormed (call_node f ts)
formed-called f ts h k = formed-call (made [] (false ∷ [])) false f (trees ts) refl refl (no-span [] (false ∷ [])) h (arguments-list ts k)

pub or-none : (b : Bool) → (b || false) ≡ true → b ≡ true
or-none true e = refl
or-none false e = absurd (cc e)

pub or-later : (a b c : Bool) → b ≡ false → (a || (b || c)) ≡ true → (a || c) ≡ true
or-later true b c e h = refl
or-later false true c e h = absurd (cc e)
or-later false false c e h = h

-- COPIES: calls of the helper, once there is a spread

data CopyFormed (f : Tree) : Option Tree → Type 0 where
  no_copy : CopyFormed f None
  a_copy : (ts : List Tree) → AreFormed ts → CopyFormed f (Some (call_node f ts))

module _ (f : Tree) (h : IsFormed f) where
  copy-formed : (c : Tree) → CopyFormed f (Some c) → IsFormed c
  copy-formed c (a_copy ts k) = formed-called f ts h k

  copied-form : (c : Option Tree) (ps : List Tree) (e : Tree) → CopyFormed f c → AreMembers ps → IsFormed e → CopyFormed f (Some (copied f c ps e))
  copied-form None ps e g k j = a_copy (object_node ps ∷ e ∷ []) (formed-object ps k, (j, tt))
  copied-form (Some c) [] e g k j = a_copy (c ∷ e ∷ []) (copy-formed c g, (j, tt))
  copied-form (Some c) (p ∷ ps) e g k j = a_copy (c ∷ object_node [] ∷ object_node (p ∷ ps) ∷ e ∷ []) (copy-formed c g, (formed-object [] tt, (formed-object (p ∷ ps) k, (j, tt))))

  last-form : (c : Option Tree) (ps : List Tree) → is_some c ≡ true → CopyFormed f c → AreMembers ps → CopyFormed f (Some (last_copied f c ps))
  last-form None ps e g k = absurd (cc e)
  last-form (Some c) [] e g k = g
  last-form (Some c) (p ∷ ps) e g k = a_copy (c ∷ object_node [] ∷ object_node (p ∷ ps) ∷ []) (copy-formed c g, (formed-object [] tt, (formed-object (p ∷ ps) k, tt)))

  copies-form : (c : Option Tree) (ps : List Tree) (ts : Trees) (u : Tree) → Copies f c ps ts u → (is_some c || any_kind is_spread ts) ≡ true → CopyFormed f c → AreMembers ps → trees_form s-ObjectMember s-ObjectMember ts ≡ true → CopyFormed f (Some u)
  copies-form c ps ts u no_more e g k j = last-form c ps (or-none (is_some c) e) g k
  copies-form c ps ts u (copies {l = l} {e = x} {ts = rest} r) e g k j =
      let parts = first-formed s-ObjectMember (node SpreadElement l (one x then done)) rest j in
      let inner = and-left (has_form s-Expression x) true (node_form s-ObjectMember SpreadElement l (one x then done) parts.0).children in
      copies-form (Some (copied f c ps x)) [] rest u r refl (copied-form c ps x g k inner) tt parts.1
  copies-form c ps ts u (keeps {t = t} {ts = rest} other r) e g k j =
      let parts = first-formed s-ObjectMember t rest j in
      copies-form c (ps ++ t ∷ []) rest u r (or-later (is_some c) (is_spread (kind_of t)) (any_kind is_spread rest) other e) g (members-more ps (t ∷ []) k (parts.0, tt)) parts.1

  placed-form : (m : Label) (u : Tree) → HasSpan m → CopyFormed f (Some u) → IsFormed (placed m u)
  placed-form m u s (a_copy ts k) = formed-call (record (made [] (false ∷ [])) { start = m.start; stop = m.stop }) false f (trees ts) refl refl (record { start = s.start; stop = s.stop }) h (arguments-list ts k)

-- OBJECT SPREAD

abbrev is_wide : Sort → Bool
is_wide s = not (is_of_sort s ObjectExpression) || takes_expressions s

all-wide : (s : Sort) → is_wide s ≡ true
all-wide s-Program = refl
all-wide _ = refl

wide-object : (s : Sort) → is_of_sort s ObjectExpression ≡ true → takes_expressions s ≡ true
wide-object s = at (is_of_sort s ObjectExpression) (takes_expressions s) (all-wide s)
  where
    at : (a b : Bool) → (not a || b) ≡ true → a ≡ true → b ≡ true
    at true b e d = e
    at false b e d = absurd (cc d)

pub spread-nodes : (n : Site) (s s' : Ledger) (x y : Spot) → Replacing SpreadRule n s x s' y → AtNodes x y
spread-nodes n s s' x y (replaces bs h) = tt

pub spread-form : FormLawful (Replacing SpreadRule)
spread-form = nodes-only (Replacing SpreadRule) spread-nodes nodes
  where
    nodes : (n : Site) (s s' : Ledger) (t u : Tree) (a : Sort) → (is_slot n.above ≡ true → a ≡ s-Expression) → Replacing SpreadRule n s (at_node t) s' (at_node u) → has_form a t ≡ true → NodeFormed a s s' u
    nodes n s s' t u a slot (replaces bs (spreads {m = m} {ps = ps} {u = v} unbound used some silent r)) h =
        let f = node_form a ObjectExpression m (many ps then done) h in
        let inner = and-left (trees_form s-ObjectMember s-ObjectMember ps) true f.children in
        let formed = placed-form (helper_node (codes "objectSpread2")) refl m v (span-of a ObjectExpression m (many ps then done) h) (copies-form (helper_node (codes "objectSpread2")) refl None [] ps v r some no_copy tt inner) in
        record { formed = form-wider a (placed m v) (wide-object a f.sort) formed; names = record { names = []; texts = tt; pending = refl; this = refl; top = refl } }
