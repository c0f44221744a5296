-- The parts of an assignment to a pattern with a rest: where what comes for each part of the pattern is right, so are all the assignments that come
-- for it.
use Rattle.std.proofs.Common.{◌≡◌, refl, List, [], ◌∷◌, ◌++◌}
use Rattle.std.specs.Prelude.{Bool, true, false, if◌then◌else◌}
use Rattle.std.proofs.lemmas.Bool.{or_from, or_parts}
use Rattle.es_tree.specs.Constructs.{any_kind, is_rest}
use Rattle.es_tree.specs.CoreStaticRules.{is_simple_target}
use Rattle.es_tree.specs.Names.{has_computed}
use Rattle.es_tree.specs.Parens.{without_parens}
use Rattle.es_tree.specs.PropertyKeys.{is_read_key, key_text}
use Rattle.es_tree.specs.RestTargets.{is_rest_assignment, is_rest_target}
use Rattle.es_tree.specs.Tree.{Tree, node, Label, one, Trees, empty, ◌before◌, fields_of, kind_of, label_of, trees}
use Rattle.es_tree.specs.Words.{Text}
use Rattle.es_tree.specs.declared.ast_type.AstType.TheVariants.{ObjectTarget, TargetProperty, TargetRest}
use Rattle.es_resolution.specs.Declarations.{Bound}
use Rattle.es_steps.specs.Nodes.{assign_node, identifier, made, string_node}
use Rattle.es_steps.specs.ObjectRest.{left_of, whole_value}
use Rattle.es_steps.specs.RestAssignments.{Groups, RestAssignmentRule, TakesTarget, object_target, property_target, rest_target}
use Rattle.es_steps.specs.RestAssignments.Groups.{begins, ends, keeps}
use Rattle.es_steps.specs.RestAssignments.RestAssignmentRule.{assigns}
use Rattle.es_steps.specs.RestAssignments.TakesTarget.{alone, beside}
use Rattle.es_steps.specs.Steps.{Site, Whole}
use Rattle.es_steps.specs.WrapRule.{is_member_target}
use Rattle.es_steps.proofs.Kept.{Each}

-- WHERE THE RULE ACTS

groups-rest : (s : Tree) (lp : Label) (w : Whole) (read : Bool) (before_it keys : List Tree) (ps : Trees) (xs : List Bound) (us : List Tree) → Groups s lp w read before_it keys ps xs us → any_kind is_rest ps ≡ true
groups-rest s lp w read before_it keys ps xs us (ends simple) = refl
groups-rest s lp w read before_it keys ps xs us (keeps {ps = rest} known g) = groups-rest s lp w read _ _ rest xs us g
groups-rest s lp w read before_it keys ps xs us (begins {ps = rest} {xs = ys} {us = vs} asked next g) = groups-rest s lp _ true _ _ rest ys vs g

-- the pattern has a rest
pub pattern-rest : (s : Tree) (lp : Label) (w : Whole) (ps : Trees) (xs : List Bound) (us : List Tree) → TakesTarget s lp w ps xs us → any_kind is_rest ps ≡ true
pattern-rest s lp w ps xs us (alone simple) = refl
pattern-rest s lp w ps xs us (beside g) = groups-rest s lp w false [] [] ps xs us g

pub acts-on-rest : (n : Site) (w : Whole) (bs : List Bound) (t u : Tree) → RestAssignmentRule n w bs t u → is_rest_assignment (kind_of t) (label_of t) (fields_of t) ≡ true
acts-on-rest n w bs t u (assigns {m = m} {lp = lp} {ps = ps} {x = x} {xs = xs} {us = us} unbound used texts silent next takes) = rw (texts, pattern-rest (identifier x) lp _ ps xs us takes) refl

-- what a rest is assigned to is no pattern with a rest
pub simple-target : (t : Tree) → is_simple_target (kind_of (without_parens t)) ≡ true → is_rest_target (one t) ≡ false
simple-target (node ObjectTarget l fs) e = absurd (cc e)
simple-target _ e = refl

-- EACH TREE

abbrev pub EachTree : (Tree → Type 0) → List Tree → Type 0
EachTree P [] = Unit {0}
EachTree P (t ∷ ts) = P t × EachTree P ts

abbrev pub EachAmong : (Tree → Type 0) → Trees → Type 0
EachAmong P empty = Unit {0}
EachAmong P (t before ts) = P t × EachAmong P ts

pub each-append : (P : Tree → Type 0) (ts us : List Tree) → EachTree P ts → EachTree P us → EachTree P (ts ++ us)
each-append P [] us h k = k
each-append P (t ∷ ts) us h k = (h.0, each-append P ts us h.1 k)

-- where nothing is asked of names
pub each-name : (xs : List Bound) → Each (λ x. Unit {0}) xs
each-name [] = tt
each-name (x ∷ xs) = (tt, each-name xs)

-- PARTS

-- of a pattern's properties, and of its rest
abbrev pub Part : (Property Rest : Tree → Type 0) → Tree → Type 0
Part P R (node TargetRest l fs) = R (node TargetRest l fs)
Part P R t = P t

either-part : (P : Tree → Type 0) (t : Tree) → P t → Part P P t
either-part P (node TargetRest l fs) h = h
either-part P _ h = h

pub each-part : (P : Tree → Type 0) (ts : Trees) → EachAmong P ts → EachAmong (Part P P) ts
each-part P empty h = tt
each-part P (t before ts) h = (either-part P t h.0, each-part P ts h.1)

-- a key that is left out: a text, or a name that a key takes
pub data IsLeft (Taken : Bound → Type 0) : Tree → Type 0 where
  text_left : (x : Text) → IsLeft Taken (string_node x)
  name_left : (x : Bound) → Taken x → IsLeft Taken (identifier x)

-- What is right of the names that keys take, of the properties of the pattern, of its rest, and of the assignments. None of these is to a pattern with a
-- rest.
pub record PartsRight (s : Tree) (lp : Label) (Taken : Bound → Type 0) (Property Rest Assigned : Tree → Type 0) : Type 0 where
  -- `{ A.. } = s`, of the last group and of others
  pub last : (ps : List Tree) → is_rest_target (one (object_target lp ps)) ≡ false → EachTree Property ps → Assigned (assign_node (object_target lp ps) s)
  pub group : (ps : List Tree) → is_rest_target (one (object_target (made [] []) ps)) ≡ false → EachTree Property ps → Assigned (assign_node (object_target (made [] []) ps) s)
  -- `x = k`, and `[x]: v` in the place of `[k]: v`
  pub key : (x : Bound) (l : Label) (k v : Tree) → is_read_key (has_computed TargetProperty l.flags) k ≡ true → Taken x → Property (property_target l k v) → Assigned (assign_node (identifier x) k)
  pub keyed : (x : Bound) (l : Label) (k v : Tree) → is_read_key (has_computed TargetProperty l.flags) k ≡ true → Taken x → Property (property_target l k v) → Property (property_target l (identifier x) v)
  -- `t = objectWithoutProperties(s, [ks])`, and of a rest alone
  pub rest : (read : Bool) (ks : List Tree) (l : Label) (t : Tree) → is_simple_target (kind_of (without_parens t)) ≡ true → EachTree (IsLeft Taken) ks → Rest (rest_target l t) → Assigned (assign_node t (left_of read s ks))
  pub whole : (l : Label) (t : Tree) → is_simple_target (kind_of (without_parens t)) ≡ true → Rest (rest_target l t) → Assigned (assign_node t (whole_value s))

-- a group has no rest
no-rest : (ps : List Tree) (l : Label) (k v : Tree) → any_kind is_rest (trees ps) ≡ false → any_kind is_rest (trees (ps ++ property_target l k v ∷ [])) ≡ false
no-rest [] l k v e = refl
no-rest (p ∷ ps) l k v e = let h = or_parts (is_rest (kind_of p)) (any_kind is_rest (trees ps)) e in or_from (is_rest (kind_of p)) (any_kind is_rest (trees (ps ++ property_target l k v ∷ []))) h.0 (no-rest ps l k v h.1)

module _ (s : Tree) (lp : Label) (Taken : Bound → Type 0) (Property Rest Assigned : Tree → Type 0) (right : PartsRight s lp Taken Property Rest Assigned) where
  groups-right : (w : Whole) (read : Bool) (before_it keys : List Tree) (ps : Trees) (xs : List Bound) (us : List Tree) → Groups s lp w read before_it keys ps xs us → any_kind is_rest (trees before_it) ≡ false → EachTree Property before_it → EachTree (IsLeft Taken) keys → Each Taken xs → EachAmong (Part Property Rest) ps → EachTree Assigned us
  groups-right w read before_it keys ps xs us (ends {l = l} {t = t} simple) e b ks taken h = (right.last before_it e b, (right.rest read keys l t simple ks h.0, tt))
  groups-right w read before_it keys ps xs us (keeps {l = l} {k = k} {v = v} {ps = rest} known g) e b ks taken h =
      groups-right w read (before_it ++ property_target l k v ∷ []) (keys ++ string_node (key_text k) ∷ []) rest xs us g (no-rest before_it l k v e) (each-append Property before_it (property_target l k v ∷ []) b (h.0, tt)) (each-append (IsLeft Taken) keys (string_node (key_text k) ∷ []) ks (text_left (key_text k), tt)) taken h.1
  groups-right w read before_it keys ps xs us (begins {l = l} {k = k} {v = v} {ps = rest} {x = x} {xs = ys} {us = vs} asked next g) e b ks taken h =
      let later = groups-right _ true (property_target l (identifier x) v ∷ []) (keys ++ identifier x ∷ []) rest ys vs g refl (right.keyed x l k v asked taken.0 h.0, tt) (each-append (IsLeft Taken) keys (identifier x ∷ []) ks (name_left x taken.0, tt)) taken.1 h.1 in
      (right.group before_it e b, (right.key x l k v asked taken.0 h.0, later))

  whole-right : (l : Label) (t : Tree) (member : Bool) → is_simple_target (kind_of (without_parens t)) ≡ true → Rest (rest_target l t) → EachTree Assigned (if member then assign_node (object_target (made [] []) []) s ∷ assign_node t (whole_value s) ∷ [] else assign_node t (whole_value s) ∷ [])
  whole-right l t true e h = (right.group [] refl tt, (right.whole l t e h, tt))
  whole-right l t false e h = (right.whole l t e h, tt)

  -- each assignment that comes for a pattern of these properties is right
  pub parts-right : (w : Whole) (ps : Trees) (xs : List Bound) (us : List Tree) → TakesTarget s lp w ps xs us → Each Taken xs → EachAmong (Part Property Rest) ps → EachTree Assigned us
  parts-right w ps xs us (alone {l = l} {t = t} simple) taken h = whole-right l t (is_member_target (one t)) simple h.0
  parts-right w ps xs us (beside g) taken h = groups-right w false [] [] ps xs us g refl tt tt taken h
