-- `using` keeps what a module asks of others and exports: off what it becomes the same is read.
use Rattle.std.proofs.Common.{◌≡◌, ℕ, zero, suc, refl, sym, ap, subst, ◌∙◌, List}
use Rattle.std.specs.Prelude.{Bool, true, false}
use Rattle.es_tree.specs.HasForm.{has_form, same_type}
use Rattle.es_tree.specs.Tree.{Tree, node, Label, Fields, done, ◌then◌, Field, Trees, kind_of}
use Rattle.es_tree.specs.Words.{Text}
use Rattle.es_tree.specs.declared.ast_type.AstType.{AstType}
use Rattle.es_tree.specs.declared.ast_type.AstType.TheVariants.{Program}
use Rattle.es_tree.specs.declared.options.EnvOptions.{EnvOptions}
use Rattle.es_tree.specs.declared.table.Sort.TheVariants.{Program as s-Program}
use Rattle.es_steps.specs.Open.{Open, finished, opened}
use Rattle.es_steps.specs.Steps.{Whole, Ledger, Site, Spot, the_program, Step, Steps}
use Rattle.es_steps.specs.Steps.Spot.{at_node}
use Rattle.es_steps.specs.Steps.Step.{acts, inside}
use Rattle.es_steps.specs.Steps.Steps.{stays, goes}
use Rattle.es_steps.proofs.FormOpen.{IsProper, opened-proper}
use Rattle.es_steps.proofs.FormRules.{AtNodes}
use Rattle.es_steps.proofs.FormSteps.{formed-after}
use Rattle.es_steps.proofs.Opened.{finished-opened}
use Rattle.es_valid_steps.specs.Laws.{statements_of}
use Rattle.es_valid_steps.proofs.FurtherSteps.{alone, alone-form}
use Rattle.es_valid_steps.proofs.NamespaceRows.{program-left}
use Rattle.es_valid_steps.proofs.Pending.{is_list_kind}
use Rattle.es_valid_steps.proofs.ProgramLists.{program-exported}
use Rattle.es_valid_steps.proofs.Spread.{finished-spread, spread, spread-opened}
use Rattle.es_module_names.specs.Laws.{StepsKeepOutside}
use Rattle.es_module_names.specs.Modules.{exported, request, star_request, texts_among}
use Rattle.es_module_names.proofs.Held.{Held, HeldAll, HeldIn, held-among, held-fields, held-trees, is_unread}
use Rattle.es_module_names.proofs.Held.Held.{stays as as_before, inside as inside_held}
use Rattle.es_module_names.proofs.Held.HeldIn.{more}
use Rattle.es_module_names.proofs.Held.HeldBy.{same, unseen, child_held, children_held}
use Rattle.es_module_names.proofs.Held.HeldAll.{some}
use Rattle.es_module_names.proofs.HeldSteps.{list-unread, named-read, none-hides}
use Rattle.es_module_names.proofs.ProgramLists.{IsReading, exported-reading, exported-texts-after, list_in, request-reading, second-list, star-reading, texts-after, top-imports}
use Rattle.es_module_names.proofs.ProgramSteps.{alone-names}
use Rattle.es_valid_using.specs.Laws.{with_using}
use Rattle.es_valid_using.proofs.UsingNamesReplaced.{NodeWent, Replaced, ReplacedAll, ReplacedBy, ReplacedIn, went-fields}
use Rattle.es_valid_using.proofs.UsingNamesReplaced.Replaced.{here, below}
use Rattle.es_valid_using.proofs.UsingNamesReplaced.ReplacedIn.{first, later}
use Rattle.es_valid_using.proofs.UsingNamesReplaced.ReplacedBy.{one_node, in_many, in_statements}
use Rattle.es_valid_using.proofs.UsingNamesReplaced.ReplacedAll.{head, tail}
use Rattle.es_valid_using.proofs.UsingNamesSteps.{KeepsForm, kind-program}
use Rattle.es_valid_using.proofs.UsingSteps.{StepOf, all-sorted, either_way, step-of}
use Rattle.es_valid_using.proofs.UsingSteps.StepOf.{by_other, by_using, by_none, by_export}

-- WHAT A RULE LEAVES: a node off which the same is read
abbrev pub Holds : Whole → Whole → Bool → Tree → Tree → Type 0
Holds w w' b t u = Held t u

pub record HoldsLawful (R : Site → Ledger → Spot → Ledger → Spot → Type 0) : Type 0 where
  pub only : (n : Site) (s s' : Ledger) (x y : Spot) → R n s x s' y → AtNodes x y
  pub at_nodes : (n : Site) (s s' : Ledger) (t u : Tree) → R n s (at_node t) s' (at_node u) → NodeWent Holds n s s' t u
  pub no_program : (n : Site) (s s' : Ledger) (t u : Tree) → R n s (at_node t) s' (at_node u) → same_type (kind_of t) Program ≡ false

abbrev Here : Bool → Tree → Tree → Type 0
Here b t u = Held t u

mutual
  tree-held : {b : Bool} {t u : Tree} → Replaced Here b t u → Held t u
  tree-held (here h) = h
  tree-held (below {k = k} r) = inside_held (fields-held (is_unread k) r (λ e i. list-unread k i e))

  fields-held : {k : AstType} {i : ℕ} {fs gs : Fields} (unread : ℕ → Bool) → ReplacedIn Here k i fs gs → (is_list_kind k ≡ true → (j : ℕ) → unread j ≡ true) → HeldIn unread fs gs
  fields-held unread (first {fs = fs} listed (one_node r)) lists = more (child_held (tree-held r)) (held-fields (λ j. unread (suc j)) fs)
  fields-held unread (first {fs = fs} listed (in_many r)) lists = more (children_held (trees-held r)) (held-fields (λ j. unread (suc j)) fs)
  fields-held unread (first {fs = fs} listed (in_statements r)) lists = more (unseen (lists (listed tt) zero)) (held-fields (λ j. unread (suc j)) fs)
  fields-held unread (later r) lists = more same (fields-held (λ j. unread (suc j)) r (λ e j. lists e (suc j)))

  trees-held : {b : Bool} {ts us : Trees} → ReplacedAll Here b ts us → HeldAll ts us
  trees-held (head {ts = ts} r) = some (tree-held r) (held-trees ts)
  trees-held (tail r) = some as_before (trees-held r)

-- THE LIST OF THE PROGRAM

module _ (read : Tree → List Text) (r : IsReading read) where
  abbrev Texts : Trees → List Text
  Texts ts = texts_among read ts

  list-texts : {b : Bool} {f g : Field} → ReplacedBy Here b f g → Texts (list_in g) ≡ Texts (list_in f)
  list-texts (one_node h) = refl
  list-texts (in_many h) = refl
  list-texts (in_statements {ts = ts} {us = us} h) = held-among read r.reads ts us (trees-held h)

  fields-texts : (k : AstType) (l : Label) {i : ℕ} {fs gs : Fields} → ReplacedIn Here k i fs gs → Texts (statements_of (node k l gs)) ≡ Texts (statements_of (node k l fs))
  fields-texts k l (first {fs = done} listed h) = refl
  fields-texts k l (first {f = d} {g = e} {fs = f then fs} listed h) = ap (λ ts. Texts ts) (second-list k l e f fs ∙ sym (second-list k l d f fs))
  fields-texts k l (later {f = d} (first {f = f} {g = g} {fs = fs} listed h)) = ap (λ ts. Texts ts) (second-list k l d g fs) ∙ list-texts h ∙ sym (ap (λ ts. Texts ts) (second-list k l d f fs))
  fields-texts k l (later {f = d} (later {f = f} {fs = fs} {gs = gs} h)) = ap (λ ts. Texts ts) (second-list k l d f gs ∙ sym (second-list k l d f fs))

  -- STEPS

  abbrev Read : Open → List Text
  Read x = Texts (statements_of (finished x))

  record Left (x y : Open) : Type 0 where
    proper : IsProper y
    formed : has_form s-Program (finished y) ≡ true
    same : Read y ≡ Read x

  module _ (o : EnvOptions) (Q : Site → Ledger → Spot → Ledger → Spot → Type 0) (form : KeepsForm Q) (law : HoldsLawful Q) where
    using-texts : {s s' : Ledger} {t u : Open} → Step Q the_program s t s' u → IsProper t → has_form s-Program (finished t) ≡ true → Read u ≡ Read t
    using-texts (acts {s = s} {s' = s'} t u h) proper f = absurd (cc (law.no_program the_program s s' t u h, kind-program t (subst (λ (x : Tree). has_form s-Program x ≡ true) (finished-opened t) f)))
    using-texts (inside {k = k} {l = l} {fs = fs} {gs = gs} h) proper f = fields-texts k l (went-fields Q law.only Holds (λ n s s' t u a q g. law.at_nodes n s s' t u q) the_program s-Program k l fs gs h proper f).replaced

    one-step : {s s' : Ledger} {t u : Open} → Step (either_way o Q) the_program s t s' u → IsProper (spread t) → has_form s-Program (finished (spread t)) ≡ true → Left (spread t) (spread u)
    one-step {s} {s'} {t} {u} h proper f = at (step-of o Q law.only h)
      where
        at : StepOf o Q s t s' u → Left (spread t) (spread u)
        at (by_other step) =
            let next = formed-after (alone o) (alone-form o) step s-Program (λ e. absurd (cc e)) proper f in
            record { proper = next.proper; formed = next.formed; same = texts-after read r top-imports (λ up. false) none-hides (alone o) (alone-form o) (named-read (λ up. false) (alone o) (alone-names o)) step (λ e. absurd (cc e)) (λ e. absurd (cc e)) proper next.proper f }
        at (by_using step) =
            let next = form s s' (spread t) (spread u) step proper f in
            record { proper = next.proper; formed = next.formed; same = using-texts step proper f }
        at (by_none e) = subst (λ (x : Open). Left (spread t) x) e.1 (record { proper = proper; formed = f; same = refl })
        at (by_export step) =
            let export = program-exported step (subst (λ (x : Tree). has_form s-Program x ≡ true) (finished-spread t) f) in
            let next = program-left export proper f in
            record { proper = next.proper; formed = next.formed; same = exported-texts-after read r top-imports export proper next.proper }

    in-a-row : {s s' : Ledger} {t u : Open} → Steps (Step (either_way o Q) the_program) s t s' u → IsProper (spread t) → has_form s-Program (finished (spread t)) ≡ true → Read (spread u) ≡ Read (spread t)
    in-a-row stays proper f = refl
    in-a-row (goes h rest) proper f = let a = one-step h proper f in in-a-row rest a.proper a.formed ∙ a.same

    -- from a source
    source-texts : {s s' : Ledger} (t : Tree) {x : Open} → Steps (Step (with_using Q o) the_program) s (opened t) s' x → has_form s-Program t ≡ true → Read x ≡ Texts (statements_of t)
    source-texts t {x} h f =
        let same-source : finished (spread (opened t)) ≡ t = finished-spread (opened t) ∙ finished-opened t in
        let proper = subst (λ (y : Open). IsProper y) (sym (spread-opened t)) (opened-proper t) in
        let formed = subst (λ (y : Tree). has_form s-Program y ≡ true) (sym same-source) f in
        sym (ap (λ y. Texts (statements_of y)) (finished-spread x)) ∙ in-a-row (all-sorted o Q h) proper formed ∙ ap (λ y. Texts (statements_of y)) same-source

pub using-outside : (o : EnvOptions) (Q : Site → Ledger → Spot → Ledger → Spot → Type 0) → KeepsForm Q → HoldsLawful Q → StepsKeepOutside (with_using Q o)
using-outside o Q form law t w w' x f steps = record {
  requests = source-texts request request-reading o Q form law t steps f;
  stars = source-texts star_request star-reading o Q form law t steps f;
  exports = source-texts exported exported-reading o Q form law t steps f;
}
