-- Steps of a walk that lowers arrows leave a program without any other construct that was absent.
use Rattle.std.proofs.Common.{◌≡◌, ◌∙◌, ℕ, zero, suc, List, [], ◌∷◌, inl, inr, refl, sym, ap, subst}
use Rattle.std.specs.Prelude.{Bool, ◌||◌, Option}
use Rattle.es_tree.specs.Constructs.{any_kind, field_at}
use Rattle.es_tree.specs.Tree.{Tree, Label, Fields, ◌then◌, Field, one, statements, Trees, ◌before◌, kind_of, trees}
use Rattle.es_tree.specs.declared.ast_type.AstType.{AstType}
use Rattle.es_tree.specs.declared.ast_type.AstType.TheVariants.{FunctionBody, FunctionExpression, ReturnStatement}
use Rattle.es_resolution.specs.Declarations.{Bound}
use Rattle.es_steps.specs.Arrows.{ArrowRule}
use Rattle.es_steps.specs.Arrows.ArrowRule.{by_name, by_new_name, with_body, with_expression}
use Rattle.es_steps.specs.Nodes.{joined_trees}
use Rattle.es_steps.specs.Open.{Additions, Open, OpenField, OpenFields, OpenTrees, Pending, finished, finished_field, finished_fields, finished_trees, flanks_with, followed_by, body_with, opened, opened_trees, whole_list, written_body}
use Rattle.es_steps.specs.Rules.{Writing, either_rule}
use Rattle.es_steps.specs.Rules.Writing.{all_pending, declarators}
use Rattle.es_steps.specs.Steps.{FieldStep, FieldsStep, Ledger, Site, Spot, Step, Steps, TreesStep, the_program}
use Rattle.es_steps.specs.Steps.Spot.{at_beside, at_body, at_list, at_node, at_trees}
use Rattle.es_steps.specs.Steps.Step.{acts, inside}
use Rattle.es_steps.specs.Steps.FieldsStep.{in_first, in_later}
use Rattle.es_steps.specs.Steps.FieldStep.{acts_on_body, acts_on_list, in_body, in_child, in_children, in_list, in_program, in_target}
use Rattle.es_steps.specs.Steps.TreesStep.{acts_on_flanked, after_flanked, flanks, in_flanked, in_head, in_tail}
use Rattle.es_steps.specs.Steps.Steps.{goes, stays}
use Rattle.es_steps.proofs.FormRules.{AtNodes}
use Rattle.es_steps.proofs.Lists.{written-first}
use Rattle.es_steps.proofs.Opened.{finished-followed, finished-opened, finished-trees, written-none}
use Rattle.es_steps.proofs.RuleLaws.{writes-lists, writing-lawful}
use Rattle.es_steps.proofs.Taken.{flanks-rest, pending_in, top_in}
use Rattle.es_arrow_steps.specs.ArrowWalks.{ArrowWalkRule}
use Rattle.es_arrow_steps.specs.ArrowWalks.ArrowWalkRule.{by_pending_name, by_rule}
use Rattle.es_reached.specs.Walks.{LawWalkMakesNone, is_other_construct}
use Rattle.es_reached.proofs.BuiltRules.{arrow-nodes}
use Rattle.es_reached.proofs.FreeTrees.{Free, FreeAll, FreeBy, FreeIn, PendingFree, body-free, flanks-free, free, free-body, free-flanks, free-whole, joined-kinds, none, whole-free}
use Rattle.es_reached.proofs.WalkTests.{Alike, AlikeBy, AlikeIn, IsBlind, IsSteady, alike-node, by-one, by-same, others-steady}

-- THE RULES

abbrev Walking : Site → Ledger → Spot → Ledger → Spot → Type 0
Walking = either_rule Writing ArrowWalkRule

walk-nodes : (n : Site) (s s' : Ledger) (x y : Spot) → ArrowWalkRule n s x s' y → AtNodes x y
walk-nodes n s s' x y (by_pending_name reads belongs reaches) = tt
walk-nodes n s s' x y (by_rule h) = arrow-nodes n s s' x y h

-- what is written of a list is the list
written-list : (n : Site) (s s' : Ledger) (p q : Pending) (x y : Option Bound) (a b : Additions) (ts us : Trees) → Writing n s (at_list p x a ts) s' (at_list q y b us) → (s ≡ s') × (whole_list p x a ts ≡ whole_list q y b us)
written-list n s s' p q x y a b ts us declarators = (refl, written-first p x a ts)
written-list n s s' p q x y a b ts us all_pending = (refl, sym (written-none (whole_list p x a ts)))

-- WHAT A STEP LEAVES: nothing but the name of `this` is pending more, and what the tests ask of a tree is as it was

record IsBeside (s s' : Ledger) : Type 0 where
  pending : pending_in s ≡ pending_in s'
  top : top_in s ≡ top_in s'

same-beside : (s s' : Ledger) → s ≡ s' → IsBeside s s'
same-beside s s' e = record { pending = ap pending_in e; top = ap top_in e }

module _ (T : AstType → Label → Fields → Bool) (steady : IsSteady T) where
  record Walked (s s' : Ledger) (t u : Tree) : Type 0 where
    free : Free T u
    around : IsBeside s s'
    alike : Alike t u

  record WalkedIn (s s' : Ledger) (fs gs : Fields) : Type 0 where
    free : FreeIn T gs
    around : IsBeside s s'
    alike : AlikeIn fs gs

  record WalkedBy (s s' : Ledger) (f g : Field) : Type 0 where
    free : FreeBy T g
    around : IsBeside s s'
    alike : AlikeBy f g

  record WalkedAll (s s' : Ledger) (ts us : Trees) : Type 0 where
    free : FreeAll T us
    around : IsBeside s s'
    kinds : (q : AstType → Bool) → IsBlind q → any_kind q ts ≡ any_kind q us

  same-all : (s s' : Ledger) (ts us : Trees) → s ≡ s' → ts ≡ us → FreeAll T ts → WalkedAll s s' ts us
  same-all s s' ts us e same d = record { free = subst (λ (xs : Trees). FreeAll T xs) same d; around = same-beside s s' e; kinds = λ q b. ap (any_kind q) same }

  -- A RULE ACTS

  arrow-walked : (n : Site) (s s' : Ledger) (t u : Tree) → ArrowRule n s (at_node t) s' (at_node u) → Free T t → Walked s s' t u
  arrow-walked n s s' t u (by_name {l = l} reads belongs reaches finds used symbol) d = record { free = (steady.made _ _ _ refl, tt); around = record { pending = refl; top = refl }; alike = record { kind = λ q b. b.name; member = refl; rest = refl } }
  arrow-walked n s s' t u (by_new_name reads belongs reaches fresh) d = record { free = (steady.made _ _ _ refl, tt); around = record { pending = refl; top = refl }; alike = record { kind = λ q b. b.name; member = refl; rest = refl } }
  arrow-walked n s s' t u (with_body none) d = record { free = (steady.made FunctionExpression _ _ refl, (tt, (d.1.0, (d.1.1.0, tt)))); around = record { pending = refl; top = refl }; alike = record { kind = λ q b. b.function; member = refl; rest = refl } }
  arrow-walked n s s' t u (with_expression expression none) d = record {
    free = (steady.made FunctionExpression _ _ refl, (tt, (d.1.0, ((steady.made FunctionBody _ _ refl, (tt, (((steady.made ReturnStatement _ _ refl, (d.1.1.0, tt)), tt), tt))), tt))));
    around = record { pending = refl; top = refl };
    alike = record { kind = λ q b. b.function; member = refl; rest = refl };
  }

  node-walked : (n : Site) (s s' : Ledger) (t u : Tree) → Walking n s (at_node t) s' (at_node u) → Free T t → Walked s s' t u
  node-walked n s s' t u (inl h) d = absurd (writes-lists h)
  node-walked n s s' t u (inr (by_pending_name reads belongs reaches)) d = record { free = (steady.made _ _ _ refl, tt); around = record { pending = refl; top = refl }; alike = record { kind = λ q b. b.name; member = refl; rest = refl } }
  node-walked n s s' t u (inr (by_rule h)) d = arrow-walked n s s' t u h d

  at-node : (n : Site) (s s' : Ledger) (t u : Tree) → Walking n s (at_node t) s' (at_node u) → Free T (finished (opened t)) → Walked s s' (finished (opened t)) (finished (opened u))
  at-node n s s' t u h d =
      subst (λ (x : Tree). Walked s s' x (finished (opened u))) (sym (finished-opened t))
      (subst (λ (x : Tree). Walked s s' t x) (sym (finished-opened u)) (node-walked n s s' t u h (subst (λ (x : Tree). Free T x) (finished-opened t) d)))

  -- BODIES AND LISTS with what is pending for them

  body-alike : (vs ls : List Tree) (t u : Tree) → Alike t u → Alike (body_with vs ls t) (body_with vs ls u)
  body-alike [] [] t u h = h
  body-alike [] (d ∷ ls) t u h = record { kind = λ q b. refl; member = refl; rest = refl }
  body-alike (v ∷ vs) ls t u h = record { kind = λ q b. refl; member = refl; rest = refl }

  body-walked : (p q : Pending) (t u : Tree) → p ≡ q → Free T (written_body p t) → Free T u → Alike t u → Free T (written_body q u) × Alike (written_body p t) (written_body q u)
  body-walked p q t u e d h a =
      let parts = free-body T p.vars p.lets t d in
      subst (λ (r : Pending). Free T (written_body r u) × Alike (written_body p t) (written_body r u)) e
      (body-free T steady.made p.vars p.lets u parts.0.0 parts.0.1 h, body-alike p.vars p.lets t u a)

  list-walked : (p q : Pending) (y : Option Bound) (a b : Additions) (us : Trees) → p ≡ q → a ≡ b → PendingFree T p → FreeAll T (trees a.excluded) → FreeAll T us → FreeAll T (whole_list q y b us)
  list-walked p q y a b us e f h x d =
      whole-free T steady.made q y b us (record { pending = subst (λ (r : Pending). PendingFree T r) e h; excluded = subst (λ (r : Additions). FreeAll T (trees r.excluded)) f x; all = d })

  -- no test looks into a list of statements
  statements-alike : (ts us : Trees) → AlikeBy (statements ts) (statements us)
  statements-alike ts us = record { child = λ q b. refl; target = refl; rest = refl; members = λ q b. refl; there = refl }

  first-alike : (f g : Field) (fs : Fields) → AlikeBy f g → AlikeIn (f then fs) (g then fs)
  first-alike f g fs h zero = h
  first-alike f g fs h (suc n) = by-same (field_at n fs)

  later-alike : (f : Field) (fs gs : Fields) → AlikeIn fs gs → AlikeIn (f then fs) (f then gs)
  later-alike f fs gs h zero = by-same f
  later-alike f fs gs h (suc n) = h n

  joined-alike : (q : AstType → Bool) (xs ts us : Trees) → any_kind q ts ≡ any_kind q us → any_kind q (joined_trees xs ts) ≡ any_kind q (joined_trees xs us)
  joined-alike q xs ts us e = joined-kinds q xs ts ∙ ap (λ v. any_kind q xs || v) e ∙ sym (joined-kinds q xs us)

  -- STEPS

  mutual
    walked : {n : Site} {s s' : Ledger} {t u : Open} → Step Walking n s t s' u → Free T (finished t) → Walked s s' (finished t) (finished u)
    walked (acts {n = n} {s = s} {s' = s'} t u h) d = at-node n s s' t u h d
    walked (inside {k = k} {l = l} {fs = fs} {gs = gs} h) d =
        let m = walked-in h d.1 in
        record { free = (sym (steady.same k l (finished_fields fs) (finished_fields gs) m.alike) ∙ d.0, m.free); around = m.around; alike = alike-node k l (finished_fields fs) (finished_fields gs) m.alike }

    walked-in : {c : ℕ → Site} {s s' : Ledger} {fs gs : OpenFields} → FieldsStep Walking c s fs s' gs → FreeIn T (finished_fields fs) → WalkedIn s s' (finished_fields fs) (finished_fields gs)
    walked-in (in_first {f = f} {g = g} {fs = fs} h) d =
        let m = walked-by h d.0 in
        record { free = (m.free, d.1); around = m.around; alike = first-alike (finished_field f) (finished_field g) (finished_fields fs) m.alike }
    walked-in (in_later {f = f} {fs = fs} {gs = gs} h) d =
        let m = walked-in h d.1 in
        record { free = (d.0, m.free); around = m.around; alike = later-alike (finished_field f) (finished_fields fs) (finished_fields gs) m.alike }

    walked-by : {n : Site} {s s' : Ledger} {f g : OpenField} → FieldStep Walking n s f s' g → FreeBy T (finished_field f) → WalkedBy s s' (finished_field f) (finished_field g)
    walked-by (in_child h) d = let m = walked h d in record { free = m.free; around = m.around; alike = by-one m.alike }
    walked-by (in_children h) d = let m = walked-all h d in record { free = m.free; around = m.around; alike = record { child = λ q b. refl; target = refl; rest = refl; members = m.kinds; there = refl } }
    walked-by (in_body {p = p} {q = q} {t = t} {u = u} e y y' h) d =
        let m = walked h (free-body T p.vars p.lets (finished t) d).1 in
        let k = body-walked p q (finished t) (finished u) m.around.pending d m.free m.alike in
        record { free = k.0; around = record { pending = refl; top = m.around.top }; alike = by-one k.1 }
    walked-by (in_list {p = p} {q = q} {y = y} {b = b} {ts = ts} {us = us} e f h) d =
        let parts = free-whole T p y b (finished_trees ts) d in
        let m = walked-all h parts.all in
        record {
          free = list-walked p q y b b (finished_trees us) m.around.pending refl parts.pending parts.excluded m.free;
          around = record { pending = refl; top = m.around.top };
          alike = statements-alike (whole_list p y b (finished_trees ts)) (whole_list q y b (finished_trees us));
        }
    walked-by (in_target {p = p} {q = q} {y = y} {y' = y'} {b = b} {ts = ts} {us = us} e h) d =
        let parts = free-whole T p y b (finished_trees ts) d in
        let m = walked-all h parts.all in
        record {
          free = list-walked p q y' b b (finished_trees us) m.around.pending refl parts.pending parts.excluded m.free;
          around = record { pending = refl; top = m.around.top };
          alike = statements-alike (whole_list p y b (finished_trees ts)) (whole_list q y' b (finished_trees us));
        }
    walked-by (in_program {p = p} {q = q} {y = y} {y' = y'} {b = b} {b' = b'} {ts = ts} {us = us} e h) d =
        let parts = free-whole T p y b (finished_trees ts) d in
        let m = walked-all h parts.all in
        record {
          free = list-walked p q y' b b' (finished_trees us) m.around.pending m.around.top parts.pending parts.excluded m.free;
          around = record { pending = refl; top = refl };
          alike = statements-alike (whole_list p y b (finished_trees ts)) (whole_list q y' b' (finished_trees us));
        }
    walked-by (acts_on_list {n = n} {s = s} {s' = s'} {p = p} {q = q} {x = x} {y = y} {a = a} {b = b} ts us (inl h)) d =
        let k = written-list n s s' p q x y a b ts us h in
        let same = ap (λ xs. whole_list p x a xs) (finished-trees ts) ∙ k.1 ∙ sym (ap (λ xs. whole_list q y b xs) (finished-trees us)) in
        record {
          free = subst (λ (xs : Trees). FreeAll T xs) same d;
          around = same-beside s s' k.0;
          alike = statements-alike (whole_list p x a (finished_trees (opened_trees ts))) (whole_list q y b (finished_trees (opened_trees us)));
        }
    walked-by (acts_on_list {n = n} {s = s} {s' = s'} {p = p} {q = q} {x = x} {y = y} {a = a} {b = b} ts us (inr h)) d = absurd (walk-nodes n s s' (at_list p x a ts) (at_list q y b us) h)
    walked-by (acts_on_body {n = n} {s = s} {s' = s'} {p = p} t u (inl h)) d =
        let k = writing-lawful.at_bodies n s s' p t u h in
        let same = ap (λ x. written_body p x) (finished-opened t) ∙ k.1 ∙ sym (finished-opened u) in
        record {
          free = subst (λ (x : Tree). Free T x) same d;
          around = same-beside s s' k.0;
          alike = subst (λ (x : Tree). AlikeBy (one (written_body p (finished (opened t)))) (one x)) same (by-same (one (written_body p (finished (opened t)))));
        }
    walked-by (acts_on_body {n = n} {s = s} {s' = s'} {p = p} t u (inr h)) d = absurd (walk-nodes n s s' (at_body p t) (at_node u) h)

    walked-all : {n : Site} {s s' : Ledger} {ts us : OpenTrees} → TreesStep Walking n s ts s' us → FreeAll T (finished_trees ts) → WalkedAll s s' (finished_trees ts) (finished_trees us)
    walked-all (in_head {ts = ts} h) d =
        let m = walked h d.0 in
        record { free = (m.free, d.1); around = m.around; kinds = λ q b. ap (λ v. v || any_kind q (finished_trees ts)) (m.alike.kind q b) }
    walked-all (in_tail {t = t} h) d =
        let m = walked-all h d.1 in
        record { free = (d.0, m.free); around = m.around; kinds = λ q b. ap (λ v. q (kind_of (finished t)) || v) (m.kinds q b) }
    walked-all (in_flanked {bs = bs} {cs = cs} {t = t} {u = u} {ts = ts} h) d =
        let parts = free-flanks T bs cs (finished t) (finished_trees ts) d in
        let m = walked h parts.1.0 in
        let rest = joined_trees (trees cs) (finished_trees ts) in
        record {
          free = flanks-free T bs cs (finished u) (finished_trees ts) parts.0.0 m.free parts.0.1 parts.1.1;
          around = m.around;
          kinds = λ q b. joined-alike q (trees bs) (finished t before rest) (finished u before rest) (ap (λ v. v || any_kind q rest) (m.alike.kind q b));
        }
    walked-all (after_flanked {bs = bs} {cs = cs} {t = t} {ts = ts} {us = us} h) d =
        let parts = free-flanks T bs cs (finished t) (finished_trees ts) d in
        let m = walked-all h parts.1.1 in
        record {
          free = flanks-free T bs cs (finished t) (finished_trees us) parts.0.0 parts.1.0 parts.0.1 m.free;
          around = m.around;
          kinds = λ q b. joined-alike q (trees bs) (finished t before joined_trees (trees cs) (finished_trees ts)) (finished t before joined_trees (trees cs) (finished_trees us))
              (ap (λ v. q (kind_of (finished t)) || v) (joined-alike q (trees cs) (finished_trees ts) (finished_trees us) (m.kinds q b)));
        }
    walked-all (flanks t u (inl h)) d = absurd (writes-lists h)
    walked-all (flanks {n = n} {s = s} {s' = s'} {bs = bs} {cs = cs} t u (inr h)) d = absurd (walk-nodes n s s' (at_node t) (at_beside bs u cs) h)
    walked-all (acts_on_flanked {n = n} {s = s} {s' = s'} {bs = bs} {cs = cs} {ts = ts} t us (inl h)) d =
        let k = writing-lawful.unflanking n s s' t bs cs us h in
        let rest = finished_trees ts in
        let old = flanks_with bs (finished (opened t)) cs rest in
        same-all s s' old (finished_trees (followed_by (opened_trees us) ts)) k.0
        ((λ i. flanks_with bs (finished-opened t i) cs rest) ∙ sym (flanks-rest bs cs t rest) ∙ ap (λ xs. joined_trees xs rest) k.1 ∙ sym (finished-followed us ts)) d
    walked-all (acts_on_flanked {n = n} {s = s} {s' = s'} {bs = bs} {cs = cs} t us (inr h)) d = absurd (walk-nodes n s s' (at_beside bs t cs) (at_trees us) h)

  in-a-row : {s s' : Ledger} {t u : Open} → Steps (Step Walking the_program) s t s' u → Free T (finished t) → Free T (finished u)
  in-a-row stays d = d
  in-a-row (goes h rest) d = in-a-row rest (walked h d).free

-- THE LAW

pub law_walk_makes_none_proof : LawWalkMakesNone
law_walk_makes_none_proof o p q w w' steps e =
    let other = is_other_construct o in
    let begin = subst (λ (t : Tree). Free other t) (sym (finished-opened p)) (free other p e) in
    none other q (subst (λ (t : Tree). Free other t) (finished-opened q) (in-a-row other (others-steady o) steps begin))
