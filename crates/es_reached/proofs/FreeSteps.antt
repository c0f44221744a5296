-- Steps of the built rules leave a program without what is sought, and nothing of it is pending on the way.
use Rattle.std.proofs.Common.{◌≡◌, ◌∙◌, ℕ, List, refl, sym, ap, subst}
use Rattle.std.specs.Prelude.{Bool, true, false, ◌&&◌, ◌||◌}
use Rattle.es_tree.specs.Constructs.{any_kind, field_at, has_member, is_chain, is_object_rest, is_object_spread, is_rest, is_spread, is_using}
use Rattle.es_tree.specs.Tree.{Tree, Label, Fields, Field, Trees, empty, ◌before◌, kind_of, trees}
use Rattle.es_tree.specs.Walks.{any_node}
use Rattle.es_tree.specs.declared.ast_type.AstType.{AstType}
use Rattle.es_tree.specs.declared.ast_type.AstType.TheVariants.{ObjectExpression, ObjectPattern, ObjectTarget}
use Rattle.es_resolution.specs.Laws.{source}
use Rattle.es_steps.specs.Nodes.{joined_trees}
use Rattle.es_steps.specs.Open.{Open, OpenField, OpenFields, OpenTrees, finished, finished_field, finished_fields, finished_trees, flanks_with, followed_by, opened, opened_trees, whole_list, written_body}
use Rattle.es_steps.specs.Steps.{FieldStep, FieldsStep, Ledger, Site, Spot, Step, Steps, TreesStep, the_program}
use Rattle.es_steps.specs.Steps.Spot.{at_beside, at_body, at_list, at_node, at_trees}
use Rattle.es_steps.specs.Steps.Step.{acts, inside}
use Rattle.es_steps.specs.Steps.FieldsStep.{in_first, in_later}
use Rattle.es_steps.specs.Steps.FieldStep.{acts_on_body, acts_on_list, in_body, in_child, in_children, in_list, in_program, in_target}
use Rattle.es_steps.specs.Steps.TreesStep.{acts_on_flanked, after_flanked, flanks, in_flanked, in_head, in_tail}
use Rattle.es_steps.specs.Steps.Steps.{goes, stays}
use Rattle.es_steps.proofs.Opened.{finished-followed, finished-opened, finished-trees}
use Rattle.es_steps.proofs.Taken.{flanks-rest}
use Rattle.es_reached.specs.NoRests.{LawNoDeclaredRests, LawNoUsings, is_declared_rest}
use Rattle.es_reached.specs.Reached.{built_rules}
use Rattle.es_reached.specs.Unmade.{LawNoneMade, Sought, is_any_logical_assignment, is_any_power, is_sought, of_declared_rests, of_usings}
use Rattle.es_reached.proofs.FreeTrees.{Free, FreeAll, FreeBy, FreeIn, LedgerFree, body-free, flanks-free, free, free-body, free-flanks, free-joined, free-whole, is_part, joined-free, joined-kinds, joined-none, neither, none, rest-members, sought-bare, sought-made, spread-members, whole-free}
use Rattle.es_reached.proofs.FreeRows.{RuleFree, built-free}
use Rattle.es_reached.proofs.Sources.{law_bare_source_proof}

-- of a test that is on or off
one-off : (a b o : Bool) → (a ≡ false → b ≡ false) → (a && o) ≡ false → (b && o) ≡ false
one-off false b o f e = ap (λ v. v && o) (f refl)
one-off true true o f e = e
one-off true false o f e = refl

-- where no later test passes
or-false : (b : Bool) → (b || false) ≡ b
or-false true = refl
or-false false = refl

pub or-none : (b : Bool) → (b || false || false || false || false) ≡ b
or-none true = refl
or-none false = refl

module _ (sought : Sought) where
  abbrev T : AstType → Label → Fields → Bool
  T = is_sought sought

  -- WHAT A STEP LEAVES: nothing that is sought, nothing of it pending, and no rest or spread where none was

  pub record Kept (s' : Ledger) (t u : Tree) : Type 0 where
    pub free : Free T u
    pub around : LedgerFree T s'
    pub kind : (m : Bool) → is_part m (kind_of t) ≡ false → is_part m (kind_of u) ≡ false

  record KeptIn (s' : Ledger) (fs gs : Fields) : Type 0 where
    free : FreeIn T gs
    around : LedgerFree T s'
    members : (m : Bool) → has_member (is_part m) (field_at 0 fs) ≡ false → has_member (is_part m) (field_at 0 gs) ≡ false

  record KeptBy (s' : Ledger) (f g : Field) : Type 0 where
    free : FreeBy T g
    around : LedgerFree T s'
    members : (m : Bool) → has_member (is_part m) f ≡ false → has_member (is_part m) g ≡ false

  record KeptAll (s' : Ledger) (ts us : Trees) : Type 0 where
    free : FreeAll T us
    around : LedgerFree T s'
    kinds : (m : Bool) → any_kind (is_part m) ts ≡ false → any_kind (is_part m) us ≡ false

  -- a pattern has a rest only among the members in its first field, and so a literal its spreads
  own-kept : (k : AstType) (l : Label) (fs gs : Fields) → ((m : Bool) → has_member (is_part m) (field_at 0 fs) ≡ false → has_member (is_part m) (field_at 0 gs) ≡ false) → T k l fs ≡ false → T k l gs ≡ false
  own-kept k l fs gs f e = at k e
    where
      rests : has_member is_rest (field_at 0 fs) ≡ false → has_member is_rest (field_at 0 gs) ≡ false
      rests e = sym (rest-members (field_at 0 gs)) ∙ f true (rest-members (field_at 0 fs) ∙ e)

      spreads : has_member is_spread (field_at 0 fs) ≡ false → has_member is_spread (field_at 0 gs) ≡ false
      spreads e = sym (spread-members (field_at 0 gs)) ∙ f false (spread-members (field_at 0 fs) ∙ e)

      pattern-kept : (asked : Bool) → ((has_member is_rest (field_at 0 fs) && asked) || false || false || false || false || false) ≡ false → ((has_member is_rest (field_at 0 gs) && asked) || false || false || false || false || false) ≡ false
      pattern-kept asked e =
          let x = has_member is_rest (field_at 0 fs) in
          let y = has_member is_rest (field_at 0 gs) in
          or-none (y && asked || false) ∙ or-false (y && asked) ∙ one-off x y asked rests (sym (or-none (x && asked || false) ∙ or-false (x && asked)) ∙ e)

      at : (k : AstType) → T k l fs ≡ false → T k l gs ≡ false
      at ObjectPattern e = pattern-kept (sought.rests ObjectPattern) e
      at ObjectTarget e = pattern-kept (sought.rests ObjectTarget) e
      at ObjectExpression e =
          let x = has_member is_spread (field_at 0 fs) in
          let y = has_member is_spread (field_at 0 gs) in
          or-none (y && sought.spreads) ∙ one-off x y sought.spreads spreads (sym (or-none (x && sought.spreads)) ∙ e)
      at _ e = e

  module _ (R : Site → Ledger → Spot → Ledger → Spot → Type 0) (rule : RuleFree sought R) where
    -- A RULE ACTS

    at-node : (n : Site) (s s' : Ledger) (t u : Tree) → R n s (at_node t) s' (at_node u) → LedgerFree T s → Free T (finished (opened t)) → Kept s' (finished (opened t)) (finished (opened u))
    at-node n s s' t u h b d =
        let k = rule n s (at_node t) s' (at_node u) h b (subst (λ (x : Tree). Free T x) (finished-opened t) d) in
        subst (λ (x : Tree). Kept s' x (finished (opened u))) (sym (finished-opened t))
        (subst (λ (x : Tree). Kept s' t x) (sym (finished-opened u)) (record { free = k.free; around = k.around; kind = k.kind }))

    puts-beside : (n : Site) (s s' : Ledger) (t u : Tree) (bs cs : List Tree) (ts : Trees) → R n s (at_node t) s' (at_beside bs u cs) → LedgerFree T s → Free T (finished (opened t)) → FreeAll T ts → KeptAll s' (finished (opened t) before ts) (flanks_with bs (finished (opened u)) cs ts)
    puts-beside n s s' t u bs cs ts h b d c =
        let k = rule n s (at_node t) s' (at_beside bs u cs) h b (subst (λ (x : Tree). Free T x) (finished-opened t) d) in
        let made = flanks_with bs u cs empty in
        let same : joined_trees made ts ≡ flanks_with bs (finished (opened u)) cs ts = flanks-rest bs cs u ts ∙ (λ i. flanks_with bs (sym (finished-opened u) i) cs ts) in
        subst (λ (x : Tree). KeptAll s' (x before ts) (flanks_with bs (finished (opened u)) cs ts)) (sym (finished-opened t))
        (subst (λ (xs : Trees). KeptAll s' (t before ts) xs) same (record {
          free = joined-free T made ts k.free c;
          around = k.around;
          kinds = λ m e. joined-kinds (is_part m) made ts ∙ neither (is_part m (kind_of t)) (any_kind (is_part m) ts) (any_kind (is_part m) made) (any_kind (is_part m) ts) (k.kind m) (λ e. e) e;
        }))

    takes-beside : (n : Site) (s s' : Ledger) (t : Tree) (bs cs : List Tree) (us : Trees) (ts : OpenTrees) → R n s (at_beside bs t cs) s' (at_trees us) → LedgerFree T s → FreeAll T (flanks_with bs (finished (opened t)) cs (finished_trees ts)) → KeptAll s' (flanks_with bs (finished (opened t)) cs (finished_trees ts)) (finished_trees (followed_by (opened_trees us) ts))
    takes-beside n s s' t bs cs us ts h b d =
        let rest = finished_trees ts in
        let old = flanks_with bs t cs empty in
        let same : joined_trees old rest ≡ flanks_with bs (finished (opened t)) cs rest = flanks-rest bs cs t rest ∙ (λ i. flanks_with bs (sym (finished-opened t) i) cs rest) in
        let parts = free-joined T old rest (subst (λ (xs : Trees). FreeAll T xs) (sym same) d) in
        let k = rule n s (at_beside bs t cs) s' (at_trees us) h b parts.0 in
        subst (λ (xs : Trees). KeptAll s' xs (finished_trees (followed_by (opened_trees us) ts))) same
        (subst (λ (xs : Trees). KeptAll s' (joined_trees old rest) xs) (sym (finished-followed us ts)) (record {
          free = joined-free T us rest k.free parts.1;
          around = k.around;
          kinds = λ m. joined-none (is_part m) old us rest rest (k.kind m) (λ e. e);
        }))

    -- STEPS

    mutual
      pub kept : {n : Site} {s s' : Ledger} {t u : Open} → Step R n s t s' u → LedgerFree T s → Free T (finished t) → Kept s' (finished t) (finished u)
      kept (acts {n = n} {s = s} {s' = s'} t u h) b d = at-node n s s' t u h b d
      kept (inside {k = k} {l = l} {fs = fs} {gs = gs} h) b d =
          let m = kept-in h b d.1 in
          record { free = (own-kept k l (finished_fields fs) (finished_fields gs) m.members d.0, m.free); around = m.around; kind = λ m e. e }

      kept-in : {c : ℕ → Site} {s s' : Ledger} {fs gs : OpenFields} → FieldsStep R c s fs s' gs → LedgerFree T s → FreeIn T (finished_fields fs) → KeptIn s' (finished_fields fs) (finished_fields gs)
      kept-in (in_first h) b d = let k = kept-by h b d.0 in record { free = (k.free, d.1); around = k.around; members = k.members }
      kept-in (in_later h) b d = let k = kept-in h b d.1 in record { free = (d.0, k.free); around = k.around; members = λ m e. e }

      kept-by : {n : Site} {s s' : Ledger} {f g : OpenField} → FieldStep R n s f s' g → LedgerFree T s → FreeBy T (finished_field f) → KeptBy s' (finished_field f) (finished_field g)
      kept-by (in_child h) b d = let k = kept h b d in record { free = k.free; around = k.around; members = λ m e. refl }
      kept-by (in_children h) b d = let k = kept-all h b d in record { free = k.free; around = k.around; members = k.kinds }
      kept-by (in_body {p = p} {q = q} {t = t} {u = u} e y y' h) b d =
          let parts = free-body T p.vars p.lets (finished t) d in
          let k = kept h (record { pending = record { vars = parts.0.0; lets = parts.0.1 }; excluded = b.excluded }) parts.1 in
          record {
            free = body-free T (sought-made sought) q.vars q.lets (finished u) k.around.pending.vars k.around.pending.lets k.free;
            around = record { pending = b.pending; excluded = k.around.excluded };
            members = λ m e. refl;
          }
      kept-by (in_list {p = p} {q = q} {y = y} {b = top} {ts = ts} {us = us} e f h) b d =
          let parts = free-whole T p y top (finished_trees ts) d in
          let k = kept-all h (record { pending = parts.pending; excluded = b.excluded }) parts.all in
          record {
            free = whole-free T (sought-made sought) q y top (finished_trees us) (record { pending = k.around.pending; excluded = parts.excluded; all = k.free });
            around = record { pending = b.pending; excluded = k.around.excluded };
            members = λ m e. refl;
          }
      kept-by (in_target {p = p} {q = q} {y = y} {y' = y'} {b = top} {ts = ts} {us = us} e h) b d =
          let parts = free-whole T p y top (finished_trees ts) d in
          let k = kept-all h (record { pending = parts.pending; excluded = b.excluded }) parts.all in
          record {
            free = whole-free T (sought-made sought) q y' top (finished_trees us) (record { pending = k.around.pending; excluded = parts.excluded; all = k.free });
            around = record { pending = b.pending; excluded = k.around.excluded };
            members = λ m e. refl;
          }
      kept-by (in_program {p = p} {q = q} {y = y} {y' = y'} {b = top} {b' = top'} {ts = ts} {us = us} e h) b d =
          let parts = free-whole T p y top (finished_trees ts) d in
          let k = kept-all h (record { pending = parts.pending; excluded = parts.excluded }) parts.all in
          record {
            free = whole-free T (sought-made sought) q y' top' (finished_trees us) (record { pending = k.around.pending; excluded = k.around.excluded; all = k.free });
            around = record { pending = b.pending; excluded = b.excluded };
            members = λ m e. refl;
          }
      kept-by (acts_on_list {n = n} {s = s} {s' = s'} {p = p} {q = q} {x = x} {y = y} {a = a} {b = top} ts us h) b d =
          let k = rule n s (at_list p x a ts) s' (at_list q y top us) h b (subst (λ (z : Trees). FreeAll T (whole_list p x a z)) (finished-trees ts) d) in
          record { free = subst (λ (z : Trees). FreeAll T (whole_list q y top z)) (sym (finished-trees us)) k.free; around = k.around; members = λ m e. refl }
      kept-by (acts_on_body {n = n} {s = s} {s' = s'} {p = p} t u h) b d =
          let k = rule n s (at_body p t) s' (at_node u) h b (subst (λ (z : Tree). Free T (written_body p z)) (finished-opened t) d) in
          record { free = subst (λ (z : Tree). Free T z) (sym (finished-opened u)) k.free; around = k.around; members = λ m e. refl }

      kept-all : {n : Site} {s s' : Ledger} {ts us : OpenTrees} → TreesStep R n s ts s' us → LedgerFree T s → FreeAll T (finished_trees ts) → KeptAll s' (finished_trees ts) (finished_trees us)
      kept-all (in_head {t = t} {u = u} {ts = ts} h) b d =
          let k = kept h b d.0 in
          let rest = λ (m : Bool). any_kind (is_part m) (finished_trees ts) in
          record { free = (k.free, d.1); around = k.around; kinds = λ m. neither (is_part m (kind_of (finished t))) (rest m) (is_part m (kind_of (finished u))) (rest m) (k.kind m) (λ e. e) }
      kept-all (in_tail {t = t} {ts = ts} {us = us} h) b d =
          let k = kept-all h b d.1 in
          let first = λ (m : Bool). is_part m (kind_of (finished t)) in
          record { free = (d.0, k.free); around = k.around; kinds = λ m. neither (first m) (any_kind (is_part m) (finished_trees ts)) (first m) (any_kind (is_part m) (finished_trees us)) (λ e. e) (k.kinds m) }
      kept-all (in_flanked {bs = bs} {cs = cs} {t = t} {u = u} {ts = ts} h) b d =
          let parts = free-flanks T bs cs (finished t) (finished_trees ts) d in
          let k = kept h b parts.1.0 in
          let rest = joined_trees (trees cs) (finished_trees ts) in
          record {
            free = flanks-free T bs cs (finished u) (finished_trees ts) parts.0.0 k.free parts.0.1 parts.1.1;
            around = k.around;
            kinds = λ m. joined-none (is_part m) (trees bs) (trees bs) (finished t before rest) (finished u before rest) (λ e. e) (neither (is_part m (kind_of (finished t))) (any_kind (is_part m) rest) (is_part m (kind_of (finished u))) (any_kind (is_part m) rest) (k.kind m) (λ e. e));
          }
      kept-all (after_flanked {bs = bs} {cs = cs} {t = t} {ts = ts} {us = us} h) b d =
          let parts = free-flanks T bs cs (finished t) (finished_trees ts) d in
          let k = kept-all h b parts.1.1 in
          let first = λ (m : Bool). is_part m (kind_of (finished t)) in
          let old = joined_trees (trees cs) (finished_trees ts) in
          let new = joined_trees (trees cs) (finished_trees us) in
          record {
            free = flanks-free T bs cs (finished t) (finished_trees us) parts.0.0 parts.1.0 parts.0.1 k.free;
            around = k.around;
            kinds = λ m. joined-none (is_part m) (trees bs) (trees bs) (finished t before old) (finished t before new) (λ e. e)
                (neither (first m) (any_kind (is_part m) old) (first m) (any_kind (is_part m) new) (λ e. e) (joined-none (is_part m) (trees cs) (trees cs) (finished_trees ts) (finished_trees us) (λ e. e) (k.kinds m)));
          }
      kept-all (flanks {n = n} {s = s} {s' = s'} {bs = bs} {cs = cs} {ts = ts} t u h) b d = puts-beside n s s' t u bs cs (finished_trees ts) h b d.0 d.1
      kept-all (acts_on_flanked {n = n} {s = s} {s' = s'} {bs = bs} {cs = cs} {ts = ts} t us h) b d = takes-beside n s s' t bs cs us ts h b d

    in-a-row : {s s' : Ledger} {t u : Open} → Steps (Step R the_program) s t s' u → LedgerFree T s → Free T (finished t) → Free T (finished u)
    in-a-row stays b d = d
    in-a-row (goes h rest) b d = let k = kept h b d in in-a-row rest k.around k.free

-- THE LAWS

pub source-sought : (c : Sought) (p : Tree) → any_node (is_sought c) p ≡ any_node (is_sought c) (source p)
source-sought c p = sym (sought-bare c p) ∙ ap (λ (t : Tree). any_node (is_sought c) t) (sym (law_bare_source_proof p)) ∙ sought-bare c (source p)

pub law_none_made_proof : LawNoneMade
law_none_made_proof c o p r names h e =
    let sought = is_sought c in
    let begin = free sought (source p) (sym (source-sought c p) ∙ e) in
    let end = in-a-row c (built_rules o) (built-free c o) h.steps (record { pending = record { vars = tt; lets = tt }; excluded = tt }) (subst (λ (t : Tree). Free sought t) (sym (finished-opened (source p))) begin) in
    none sought r (subst (λ (t : Tree). Free sought t) (finished-opened r) end)

-- PATTERNS WITH A REST THAT ARE DECLARED are such a construct

and-true : (b : Bool) → (b && true) ≡ b
and-true true = refl
and-true false = refl

and-false : (b : Bool) → (b && false) ≡ false
and-false true = refl
and-false false = refl

declared-sought : (k : AstType) (l : Label) (fs : Fields) → is_sought of_declared_rests k l fs ≡ is_declared_rest k l fs
declared-sought k l fs =
    (λ i. is_declared_rest k l fs || and-false (is_object_spread k l fs) i || and-false (is_chain k l fs) i || and-false (is_any_logical_assignment k l fs) i || and-false (is_any_power k l fs) i || and-false (is_using k l fs) i)
    ∙ or-none (is_declared_rest k l fs || false) ∙ or-false (is_declared_rest k l fs)

declared-in : (t : Tree) → any_node (is_sought of_declared_rests) t ≡ any_node is_declared_rest t
declared-in t = λ i. any_node (λ k l fs. declared-sought k l fs i) t

pub law_no_declared_rests_proof : LawNoDeclaredRests
law_no_declared_rests_proof o p r names h e = sym (declared-in r) ∙ law_none_made_proof of_declared_rests o p r names h (declared-in p ∙ e)

-- and so are declarations by `using`

usings-sought : (k : AstType) (l : Label) (fs : Fields) → is_sought of_usings k l fs ≡ is_using k l fs
usings-sought k l fs =
    λ i. and-false (is_object_rest k l fs) i || and-false (is_object_spread k l fs) i || and-false (is_chain k l fs) i || and-false (is_any_logical_assignment k l fs) i || and-false (is_any_power k l fs) i || and-true (is_using k l fs) i

usings-in : (t : Tree) → any_node (is_sought of_usings) t ≡ any_node is_using t
usings-in t = λ i. any_node (λ k l fs. usings-sought k l fs i) t

pub law_no_usings_proof : LawNoUsings
law_no_usings_proof o p r names h e = sym (usings-in r) ∙ law_none_made_proof of_usings o p r names h (usings-in p ∙ e)
