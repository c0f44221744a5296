-- Rules by symbols at the places of an open core program are steps by names.
use Rattle.std.proofs.Common.{◌≡◌, inl, inr, ℕ, zero, suc, refl, sym, subst, ◌∙◌, List}
use Rattle.std.specs.Prelude.{Bool, true, false, Option, None}
use Rattle.es_tree.specs.Bare.{bare, bare_trees}
use Rattle.es_tree.specs.Tree.{Tree, Label, Trees}
use Rattle.es_tree.specs.Words.{Text}
use Rattle.es_tree.specs.declared.ast_type.AstType.{AstType}
use Rattle.es_tree.specs.declared.ast_type.AstType.TheVariants.{Identifier, ThisExpression}
use Rattle.es_tree.specs.declared.options.EnvOptions.{EnvOptions}
use Rattle.es_runs.specs.Alike.{Need}
use Rattle.es_runs.specs.Open as plain
use Rattle.es_runs.specs.OpenRules as rules
use Rattle.es_runs.specs.OpenRules.Writing.{writes as plain_writes}
use Rattle.es_runs.specs.OpenSteps as steps
use Rattle.es_runs.specs.OpenSteps.Step.{acts as plain_acts, inside as plain_inside}
use Rattle.es_runs.specs.OpenSteps.FieldsStep.{in_first as plain_in_first, in_later as plain_in_later}
use Rattle.es_runs.specs.OpenSteps.FieldStep.{in_child as plain_in_child, in_children as plain_in_children, within as plain_within, acts_on_list as plain_acts_on_list}
use Rattle.es_runs.specs.OpenSteps.TreesStep.{in_head as plain_in_head, in_tail as plain_in_tail}
use Rattle.es_resolution.specs.Declarations.{Bound}
use Rattle.es_steps.specs.CoreBridge.{forgotten, forgotten_field, forgotten_fields, forgotten_ledger, forgotten_pending, forgotten_trees}
use Rattle.es_steps.specs.CoreRules.{RowRule, rows_under, where_on}
use Rattle.es_steps.specs.Open.{Pending, nothing_pending, Additions, no_additions, whole_list, Open, OpenFields, OpenField, OpenTrees, opened, opened_trees}
use Rattle.es_steps.specs.Rules.{Replacing}
use Rattle.es_steps.specs.Rules.Replacing.{replaces}
use Rattle.es_steps.specs.Rules.Writing.{declarators, all_pending}
use Rattle.es_steps.specs.Steps.{Whole, Ledger, ledger, Site, Spot, at_node, at_beside, at_list, Step, FieldsStep, FieldStep, TreesStep, site_in}
use Rattle.es_steps.specs.Steps.Step.{acts, inside}
use Rattle.es_steps.specs.Steps.FieldsStep.{in_first, in_later}
use Rattle.es_steps.specs.Steps.FieldStep.{in_child, in_children, in_body, in_list, in_target, in_program, acts_on_list, acts_on_body}
use Rattle.es_steps.specs.Steps.TreesStep.{in_head, in_tail, in_flanked, after_flanked, flanks, acts_on_flanked}
use Rattle.es_steps.specs.WrapRule.{WrapRule}
use Rattle.es_steps.specs.WrapRule.WrapRule.{wraps}
use Rattle.es_steps.proofs.BridgeFurther.{all_of, further-spot, no-further}
use Rattle.es_steps.proofs.BridgeLinks.{Grows, Tied, TiedAll, asks}
use Rattle.es_steps.proofs.BridgeOpen.{OpenTied, OpenTiedAll, OpenTiedBy, OpenTiedIn, OwnOpen, PendingTied, all-back, all-opened, list-bare, list-tied, no_open_fields, open-all-grows, open-by-grows, open-grows, open-in-grows, opened-back, opened-tied, pending-grows}
use Rattle.es_steps.proofs.BridgeSteps.{AboveFits, Acted, LedgerTied, SiteFits, acted, is_at_node, look_in, look_of, site-below, used_in, writing-spot}
use Rattle.es_steps.proofs.BridgeTrees.{forgotten-opened, trees-opened}

-- WHERE RULES ACT

module _ (v o g : EnvOptions) where
  on-spot : (R : Site → Ledger → Spot → Ledger → Spot → Type 0) (n : Site) (s s' : Ledger) (x y : Spot) → (R n s x s' y → (is_at_node x ≡ true) × (is_at_node y ≡ true)) → (c : Bool) → where_on c R n s x s' y → (is_at_node x ≡ true) × (is_at_node y ≡ true)
  on-spot R n s s' x y law true r = law r
  on-spot R n s s' x y law false r = absurd r

  row-spot : (R : Site → Whole → List Bound → Tree → Tree → Type 0) {n : Site} {s s' : Ledger} {x y : Spot} → Replacing R n s x s' y → (is_at_node x ≡ true) × (is_at_node y ≡ true)
  row-spot R (replaces bs r) = (refl, refl)

  wrap-spot : {n : Site} {s s' : Ledger} {x y : Spot} → WrapRule v n s x s' y → (is_at_node x ≡ true) × (is_at_node y ≡ true)
  wrap-spot (wraps a b c d) = (refl, refl)

  rows-spot : (n : Site) (s s' : Ledger) (x y : Spot) → rows_under o n s x s' y → (is_at_node x ≡ true) × (is_at_node y ≡ true)
  rows-spot n s s' x y (inl r) = on-spot (RowRule _) n s s' x y (row-spot _) o.es2021.logical_assignment_operators r
  rows-spot n s s' x y (inr (inl (inl r))) = on-spot (RowRule _) n s s' x y (row-spot _) o.es2020.nullish_coalescing_operator r
  rows-spot n s s' x y (inr (inl (inr r))) = on-spot (RowRule _) n s s' x y (row-spot _) o.es2020.optional_chaining r
  rows-spot n s s' x y (inr (inr r)) = on-spot (RowRule _) n s s' x y (row-spot _) o.es2016.exponentiation_operator r

  -- LISTS

  module _ (p : Tree) where
    acted-all : (n : Site) (s s' : Ledger) (a : Bool) {t u : Tree} → all_of v o g n s (at_node t) s' (at_node u) → LedgerTied p s → SiteFits p n (look_in p s) → Tied (used_in p s) (look_in p s) a t → Acted p n s s' a t u (rules.rule_under o)
    acted-all n s s' a (inl r) h f d = acted p v o n s s' a r h f d
    acted-all n s s' a {t} {u} (inr r) h f d = absurd (no-further (used_in p s) (look_in p s) g a n s s' t (at_node u) r f.above d)

    -- a rule leaves no statement beside others
    no-flanks : (n : Site) (s s' : Ledger) (t u : Tree) (bs cs : List Tree) → all_of v o g n s (at_node t) s' (at_beside bs u cs) → AboveFits n.above → Tied (used_in p s) (look_in p s) true t → ⊥
    no-flanks n s s' t u bs cs (inl (inl r)) h d = let no : true ≡ false = writing-spot p v o r in cc no
    no-flanks n s s' t u bs cs (inl (inr (inl r))) h d = let no : false ≡ true = (wrap-spot r).1 in cc no
    no-flanks n s s' t u bs cs (inl (inr (inr r))) h d = let no : false ≡ true = (rows-spot n s s' (at_node t) (at_beside bs u cs) r).1 in cc no
    no-flanks n s s' t u bs cs (inr r) h d = no-further (used_in p s) (look_in p s) g true n s s' t (at_beside bs u cs) r h d

    record Listed (n : Site) (s s' : Ledger) (q : Pending) (ts : Trees) (q' : Pending) (x' : Option Bound) (a' : Additions) (us : Trees) : Type 0 where
      rule : rules.rule_under o n.need (forgotten_ledger p s) (steps.at_list (forgotten_pending q) (bare_trees ts)) (forgotten_ledger p s') (steps.at_list (forgotten_pending q') (bare_trees us))
      same : s ≡ s'
      tied : PendingTied (used_in p s) (look_in p s) q' × (x' ≡ None) × (a' ≡ no_additions) × TiedAll (used_in p s) (look_in p s) us

    writing-list : (n : Site) (s : Ledger) (q : Pending) (ts : Trees) → PendingTied (used_in p s) (look_in p s) q → TiedAll (used_in p s) (look_in p s) ts → Listed n s s q ts nothing_pending None no_additions (whole_list q None no_additions ts)
    writing-list n s q ts h d = record {
      rule = subst (λ us. rules.rule_under o n.need (forgotten_ledger p s) (steps.at_list (forgotten_pending q) (bare_trees ts)) (forgotten_ledger p s) (steps.at_list plain.nothing_pending us)) (sym (list-bare (used_in p s) (look_in p s) q ts d)) (inl plain_writes);
      same = refl;
      tied = ((tt, tt), refl, refl, list-tied (used_in p s) (look_in p s) q ts h d);
    }

    moved-list : (n : Site) (s : Ledger) (q : Pending) (x : Option Bound) (a : Additions) (ts : Trees) → x ≡ None → a ≡ no_additions → Listed n s s q ts nothing_pending None no_additions (whole_list q None no_additions ts) → Listed n s s q ts nothing_pending None no_additions (whole_list q x a ts)
    moved-list n s q x a ts e d h = subst (λ y. Listed n s s q ts nothing_pending None no_additions (whole_list q y a ts)) (sym e) (subst (λ b. Listed n s s q ts nothing_pending None no_additions (whole_list q None b ts)) (sym d) h)

    kept-list : (n : Site) (s : Ledger) (q : Pending) (x : Option Bound) (a : Additions) (ts us : Trees) → x ≡ None → a ≡ no_additions → Listed n s s q ts nothing_pending None no_additions us → Listed n s s q ts nothing_pending x a us
    kept-list n s q x a ts us e d h = record { rule = h.rule; same = refl; tied = (h.tied.0, e, d, h.tied.3) }

    listed : (n : Site) (s s' : Ledger) {q q' : Pending} {x x' : Option Bound} {a a' : Additions} {ts us : Trees} → all_of v o g n s (at_list q x a ts) s' (at_list q' x' a' us) → PendingTied (used_in p s) (look_in p s) q → x ≡ None → a ≡ no_additions → TiedAll (used_in p s) (look_in p s) ts → Listed n s s' q ts q' x' a' us
    listed n s s' (inl (inl (declarators {p = q} {x = x} {a = a} {ts = ts}))) h e d g = kept-list n s q x a ts (whole_list q None no_additions ts) e d (writing-list n s q ts h g)
    listed n s s' (inl (inl (all_pending {p = q} {x = x} {a = a} {ts = ts}))) h e d g = moved-list n s q x a ts e d (writing-list n s q ts h g)
    listed n s s' (inl (inr (inl r))) h e d g = absurd (let no : false ≡ true = (wrap-spot r).0 in cc no)
    listed n s s' (inl (inr (inr r))) h e d g = absurd (let no : false ≡ true = (rows-spot n s s' _ _ r).0 in cc no)
    listed n s s' (inr r) h e d k = absurd (let no : false ≡ true = further-spot g n s s' _ _ r in cc no)

    -- STEPS

    pub record Passed (s s' : Ledger) (Plain : Type 0) (After : (Text → Bool) → (Text → Option ℕ) → Type 0) : Type 0 where
      pub plain : Plain
      pub after : LedgerTied p s'
      pub tied : After (used_in p s') (look_in p s')
      pub grow : Grows (used_in p s) (look_in p s) (used_in p s') (look_in p s')

    some-fields : {R : Site → Ledger → Spot → Ledger → Spot → Type 0} {c : ℕ → Site} {s s' : Ledger} {fs gs : OpenFields} → FieldsStep R c s fs s' gs → no_open_fields fs ≡ false
    some-fields (in_first r) = refl
    some-fields (in_later r) = refl

    own-after : (used : Text → Bool) (look : Text → Option ℕ) (more : Text → Bool) (wider : Text → Option ℕ) (a : Bool) (k : AstType) (l : Label) (fs gs : OpenFields) → no_open_fields fs ≡ false → OwnOpen used look a k l fs → OwnOpen more wider a k l gs
    own-after used look more wider a Identifier l fs gs e h = absurd (let no : true ≡ false = sym h.0 ∙ e in cc no)
    own-after used look more wider a ThisExpression l fs gs e h = absurd (let no : true ≡ false = sym h ∙ e in cc no)
    own-after used look more wider a _ l fs gs e h = tt

    abbrev pub PlainRule : Need → steps.Ledger → steps.Spot → steps.Ledger → steps.Spot → Type 0
    PlainRule = rules.rule_under o

    mutual
      step : (n : Site) (s s' : Ledger) (a : Bool) {t u : Open} → Step (all_of v o g) n s t s' u → LedgerTied p s → SiteFits p n (look_in p s) → OpenTied (used_in p s) (look_in p s) a t →
          Passed s s' (steps.Step PlainRule n.need (forgotten_ledger p s) (forgotten t) (forgotten_ledger p s') (forgotten u)) (λ used look. OpenTied used look a u)
      step n s s' a (acts t u r) h f d =
          let c = acted-all n s s' a r h f (opened-back (used_in p s) (look_in p s) a t d) in
          record {
            plain = subst (λ q. steps.Step PlainRule n.need (forgotten_ledger p s) q (forgotten_ledger p s') (forgotten (opened u))) (sym (forgotten-opened t))
                (subst (λ q. steps.Step PlainRule n.need (forgotten_ledger p s) (plain.opened (bare t)) (forgotten_ledger p s') q) (sym (forgotten-opened u)) (plain_acts (bare t) (bare u) c.rule));
            after = c.after;
            tied = opened-tied (used_in p s') (look_in p s') a u c.tied;
            grow = c.grow;
          }
      step n s s' a (inside {k = k} {l = l} {fs = fs} {gs = gs} r) h f d =
          let g = fields (site_in n k l fs) s s' (asks a k l) r h (site-below p n (look_in p s) k l fs d.0 f) d.2 in
          record { plain = plain_inside g.plain; after = g.after; tied = (d.0, own-after (used_in p s) (look_in p s) (used_in p s') (look_in p s') a k l fs gs (some-fields r) d.1, g.tied); grow = g.grow }

      pub fields : (c : ℕ → Site) (s s' : Ledger) (a : ℕ → Bool) {fs gs : OpenFields} → FieldsStep (all_of v o g) c s fs s' gs → LedgerTied p s → ((i : ℕ) → SiteFits p (c i) (look_in p s)) → OpenTiedIn (used_in p s) (look_in p s) a fs →
          Passed s s' (steps.FieldsStep PlainRule (λ i. (c i).need) (forgotten_ledger p s) (forgotten_fields fs) (forgotten_ledger p s') (forgotten_fields gs)) (λ used look. OpenTiedIn used look a gs)
      fields c s s' a (in_first {f = w} {g = z} {fs = fs} r) h f d =
          let g = field (c zero) s s' (a zero) r h (f zero) d.0 in
          record { plain = plain_in_first g.plain; after = g.after; tied = (g.tied, open-in-grows (used_in p s) (look_in p s) (used_in p s') (look_in p s') g.grow (λ i. a (suc i)) fs d.1); grow = g.grow }
      fields c s s' a (in_later {f = w} {fs = fs} {gs = gs} r) h f d =
          let g = fields (λ i. c (suc i)) s s' (λ i. a (suc i)) r h (λ i. f (suc i)) d.1 in
          record { plain = plain_in_later g.plain; after = g.after; tied = (open-by-grows (used_in p s) (look_in p s) (used_in p s') (look_in p s') g.grow (a zero) w d.0, g.tied); grow = g.grow }

      field : (n : Site) (s s' : Ledger) (a : Bool) {w z : OpenField} → FieldStep (all_of v o g) n s w s' z → LedgerTied p s → SiteFits p n (look_in p s) → OpenTiedBy (used_in p s) (look_in p s) a w →
          Passed s s' (steps.FieldStep PlainRule n.need (forgotten_ledger p s) (forgotten_field w) (forgotten_ledger p s') (forgotten_field z)) (λ used look. OpenTiedBy used look a z)
      field n s s' a (in_child r) h f d = let g = step n s s' a r h f d in record { plain = plain_in_child g.plain; after = g.after; tied = g.tied; grow = g.grow }
      field n s s' a (in_children r) h f d = let g = trees n s s' r h f d in record { plain = plain_in_children g.plain; after = g.after; tied = g.tied; grow = g.grow }
      field n s s' a (in_body reading before after r) h f d = absurd d
      field n s s' a (in_list {w = w} {w' = w'} {o = q} {p = p0} {q = q'} {x = x} {x' = x'} {y = y} {a = b} {a' = b'} {b = c} {ts = ts} {us = us} target program r) h f d =
          let g = trees n (ledger w p0 x b) (ledger w' q' x' b') r (h.0, d.0, h.2, h.3) f d.3 in
          record { plain = plain_within g.plain; after = (g.after.0, pending-grows w.in_use (look_of p w) w'.in_use (look_of p w') g.grow q h.1, g.after.2, g.after.3); tied = (g.after.1, d.1, d.2, g.tied); grow = g.grow }
      field n s s' a (in_target {w = w} {w' = w'} {o = q} {p = p0} {q = q'} {x = x} {y = y} {y' = y'} {a = b} {a' = b'} {b = c} {ts = ts} {us = us} target r) h f d =
          let g = trees n (ledger w p0 y b) (ledger w' q' y' b') r (h.0, d.0, d.1, h.3) f d.3 in
          record { plain = plain_within g.plain; after = (g.after.0, pending-grows w.in_use (look_of p w) w'.in_use (look_of p w') g.grow q h.1, h.2, g.after.3); tied = (g.after.1, g.after.2, d.2, g.tied); grow = g.grow }
      field n s s' a (in_program {w = w} {w' = w'} {o = q} {p = p0} {q = q'} {x = x} {y = y} {y' = y'} {a = b} {b = c} {b' = c'} {ts = ts} {us = us} program r) h f d =
          let g = trees n (ledger w p0 y c) (ledger w' q' y' c') r (h.0, d.0, d.1, d.2) f d.3 in
          record { plain = plain_within g.plain; after = (g.after.0, pending-grows w.in_use (look_of p w) w'.in_use (look_of p w') g.grow q h.1, h.2, h.3); tied = (g.after.1, g.after.2, g.after.3, g.tied); grow = g.grow }
      field n s s' a (acts_on_list {p = q} {q = q'} {x = x} {y = y} {a = b} {b = c} ts us r) h f d =
          let g = listed n s s' r d.0 d.1 d.2 (all-back (used_in p s) (look_in p s) ts d.3) in
          record {
            plain = subst (λ v. steps.FieldStep PlainRule n.need (forgotten_ledger p s) (plain.list (forgotten_pending q) v) (forgotten_ledger p s') (plain.list (forgotten_pending q') (forgotten_trees (opened_trees us)))) (sym (trees-opened ts))
                (subst (λ v. steps.FieldStep PlainRule n.need (forgotten_ledger p s) (plain.list (forgotten_pending q) (plain.opened_trees (bare_trees ts))) (forgotten_ledger p s') (plain.list (forgotten_pending q') v)) (sym (trees-opened us)) (plain_acts_on_list (bare_trees ts) (bare_trees us) g.rule));
            after = subst (LedgerTied p) g.same h;
            tied = subst (λ z. PendingTied (used_in p z) (look_in p z) q' × (y ≡ None) × (c ≡ no_additions) × OpenTiedAll (used_in p z) (look_in p z) (opened_trees us)) g.same (g.tied.0, g.tied.1, g.tied.2, all-opened (used_in p s) (look_in p s) us g.tied.3);
            grow = subst (λ z. Grows (used_in p s) (look_in p s) (used_in p z) (look_in p z)) g.same (λ y e. (e, refl));
          }
      field n s s' a (acts_on_body t u r) h f d = absurd d

      trees : (n : Site) (s s' : Ledger) {ts us : OpenTrees} → TreesStep (all_of v o g) n s ts s' us → LedgerTied p s → SiteFits p n (look_in p s) → OpenTiedAll (used_in p s) (look_in p s) ts →
          Passed s s' (steps.TreesStep PlainRule n.need (forgotten_ledger p s) (forgotten_trees ts) (forgotten_ledger p s') (forgotten_trees us)) (λ used look. OpenTiedAll used look us)
      trees n s s' (in_head {ts = ts} r) h f d =
          let g = step n s s' true r h f d.0 in
          record { plain = plain_in_head g.plain; after = g.after; tied = (g.tied, open-all-grows (used_in p s) (look_in p s) (used_in p s') (look_in p s') g.grow ts d.1); grow = g.grow }
      trees n s s' (in_tail {t = t} r) h f d =
          let g = trees n s s' r h f d.1 in
          record { plain = plain_in_tail g.plain; after = g.after; tied = (open-grows (used_in p s) (look_in p s) (used_in p s') (look_in p s') g.grow true t d.0, g.tied); grow = g.grow }
      trees n s s' (in_flanked r) h f d = absurd d
      trees n s s' (after_flanked r) h f d = absurd d
      trees n s s' (flanks {bs = bs} {cs = cs} t u r) h f d = absurd (no-flanks n s s' t u bs cs r f.above (opened-back (used_in p s) (look_in p s) true t d.0))
      trees n s s' (acts_on_flanked t us r) h f d = absurd d
