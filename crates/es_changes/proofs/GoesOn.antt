-- What is known of a part, and of what is pending beside it, goes on through steps of a lawful rule.
use Rattle.std.proofs.Common.{◌≡◌, ℕ, sym, ap, subst, ◌∙◌}
use Rattle.std.specs.Prelude.{Bool, true, false, Option, None}
use Rattle.es_tree.specs.HasForm.{has_form, is_of_sort, trees_form}
use Rattle.es_tree.specs.Tree.{Field, Trees, statements, kind_of}
use Rattle.es_tree.specs.Words.{Text}
use Rattle.es_tree.specs.declared.ast_type.AstType.TheVariants.{VariableDeclaration}
use Rattle.es_tree.specs.declared.table.Sort.{Sort}
use Rattle.es_tree.specs.declared.table.Sort.TheVariants.{Expression as s-Expression}
use Rattle.es_resolution.specs.Called.{Called}
use Rattle.es_resolution.specs.Declarations.{Bound, is_var_scope}
use Rattle.es_resolution.specs.Named.{Named, NamedAll, NamedBy}
use Rattle.es_steps.specs.Identifiers.{Passes, PassesAll, PassesBy}
use Rattle.es_steps.specs.Open.{Additions, Open, OpenField, OpenTrees, Pending, body, child, children, finished, finished_field, finished_trees, gap, list, no_additions, nothing_pending, whole_list}
use Rattle.es_steps.specs.Slots.{is_slot}
use Rattle.es_steps.specs.Steps.{FieldStep, Ledger, Site, Spot, Step, Steps, TreesStep, Whole}
use Rattle.es_steps.specs.Steps.FieldStep.{acts_on_list, in_list, in_program, in_target}
use Rattle.es_steps.specs.Steps.Steps.{goes, stays}
use Rattle.es_steps.proofs.FormLists.{IsPlain, IsPlainList}
use Rattle.es_steps.proofs.FormOpen.{AreProperTrees, Holds, IsProper, IsProperField}
use Rattle.es_steps.proofs.FormRules.{NewNames}
use Rattle.es_steps.proofs.FormSteps.{field-after, formed-after, plain-more, trees-after}
use Rattle.es_steps.proofs.Kept.{Change, Known}
use Rattle.es_steps.proofs.Opened.{finished-trees}
use Rattle.es_steps.proofs.Passed.{Recalled, passed, passed-all, passed-by, recalled, recalled-all, recalled-by}
use Rattle.es_steps.proofs.Passing.{PassesPending, PassesName, PassesTop}
use Rattle.es_steps.proofs.Taken.{Allows, LedgerPasses, Outcome, pending_in, taken, taken-all, taken-by, this_in, top_in, whole_in}
use Rattle.es_changes.specs.Fits.{is_known}
use Rattle.es_changes.specs.Rules.{IsLawfulRule}
use Rattle.es_changes.proofs.KnownNames.{UsesMore, called-all, called-by, called-in, is_in_use, new-known, recalled-both, recalled-none, used-after}

-- ROWS: what one step keeps, where symbols are known in the end, steps in a row keep

module _ {X : Type 0} (S : Ledger → X → Ledger → X → Type 0) (recall : (s s' : Ledger) (t u : X) → S s t s' u → Recalled (whole_in s) (whole_in s')) where
  pub row-recalled : {s s' : Ledger} {t u : X} → Steps S s t s' u → Recalled (whole_in s) (whole_in s')
  row-recalled (stays {s = s}) = recalled-none (whole_in s)
  row-recalled (goes {s = s} {s' = m} {s'' = s'} {t = t} {u = u} here rest) = recalled-both (whole_in s) (whole_in m) (whole_in s') (recall s m t u here) (row-recalled rest)

  pub row-keeps : (P : Whole → Ledger → X → Type 0) → ((e : Whole) (s s' : Ledger) (t u : X) → Recalled (whole_in s') e → P e s t → S s t s' u → P e s' u) → {s s' : Ledger} {t u : X} → Steps S s t s' u → (e : Whole) → Recalled (whole_in s') e → P e s t → P e s' u
  row-keeps P keep stays e r p = p
  row-keeps P keep (goes {s = s} {s' = m} {s'' = s'} {t = t} {u = u} here rest) e r p = row-keeps P keep rest e r (keep e s m t u (recalled-both (whole_in m) (whole_in s') e (row-recalled rest) r) p here)

-- ONE STEP: what is pending beside a part

pub record Beside (first e : Whole) (s : Ledger) : Type 0 where
  pub more : UsesMore first (whole_in s)
  pub passes : LedgerPasses (is_known e) s
  pub used : PassesPending (is_in_use (whole_in s)) (pending_in s)
  pub plain : IsPlain (pending_in s)

beside-after : {K : Known → Change → Type 0} (first e : Whole) (s s' : Ledger) → Outcome K s s' → LedgerPasses (is_known e) s' → NewNames s s' → Beside first e s → Beside first e s'
beside-after first e s s' o k f b = record {
  more = λ x d. o.more x (b.more x d);
  passes = k;
  used = used-after o b.used;
  plain = plain-more (pending_in s) (pending_in s') f.names b.plain f.texts f.pending;
}

module _ (R : Site → Ledger → Spot → Ledger → Spot → Type 0) (law : IsLawfulRule R) (first : Whole) (n : Site) where
  -- A TREE

  pub record TreeGoes (a : Sort) (e : Whole) (s : Ledger) (t : Open) : Type 0 where
    pub beside : Beside first e s
    pub named : Named (whole_in s).in_use (whole_in s).free_symbol n.role (finished t)
    pub known : Passes (is_known e) (finished t)
    pub proper : IsProper t
    pub formed : has_form a (finished t) ≡ true

  -- the names of the tree before a step
  tree-called : (a : Sort) (e : Whole) (s s' : Ledger) (t u : Open) → Recalled (whole_in s') e → TreeGoes a e s t → Step R n s t s' u → Called (whole_in s).called (finished t)
  tree-called a e s s' t u r g h = called-in (whole_in s) e (recalled-both (whole_in s) (whole_in s') e (recalled R law.names law.writes h) r) n.role (finished t) g.named g.known

  pub tree-goes : (a : Sort) → (is_slot n.above ≡ true → a ≡ s-Expression) → (e : Whole) (s s' : Ledger) (t u : Open) → Recalled (whole_in s') e → TreeGoes a e s t → Step R n s t s' u → TreeGoes a e s' u
  tree-goes a slot e s s' t u r g h =
      let o = taken R law.names law.writes h (g.named, tree-called a e s s' t u r g h) in
      let k = passed R law.names law.writes (is_known e) h (new-known (whole_in s) (whole_in s') e r) g.beside.passes g.known in
      let f = formed-after R law.form h a slot g.proper g.formed in
      record { beside = beside-after first e s s' o k.1 f.names g.beside; named = o.kept.named; known = k.0; proper = f.proper; formed = f.formed }

  -- what has a scope of `var` of its own has one afterwards, and nothing else has
  pub tree-kind : (a : Sort) (e : Whole) (s s' : Ledger) (t u : Open) → Recalled (whole_in s') e → TreeGoes a e s t → Step R n s t s' u → is_var_scope (kind_of (finished u)) ≡ is_var_scope (kind_of (finished t))
  tree-kind a e s s' t u r g h = (taken R law.names law.writes h (g.named, tree-called a e s s' t u r g h)).kept.kind

  -- SOME TREES

  pub record TreesGo (a last : Sort) (e : Whole) (s : Ledger) (ts : OpenTrees) : Type 0 where
    pub beside : Beside first e s
    pub named : NamedAll (whole_in s).in_use (whole_in s).free_symbol n.role (finished_trees ts)
    pub known : PassesAll (is_known e) (finished_trees ts)
    pub proper : AreProperTrees ts
    pub formed : trees_form a last (finished_trees ts) ≡ true

  pub trees-go : (a last : Sort) → (is_slot n.above ≡ true → ⊥) → (e : Whole) (s s' : Ledger) (ts us : OpenTrees) → Recalled (whole_in s') e → TreesGo a last e s ts → TreesStep R n s ts s' us → TreesGo a last e s' us
  trees-go a last no_slot e s s' ts us r g h =
      let called = called-all (whole_in s) e (recalled-both (whole_in s) (whole_in s') e (recalled-all R law.names law.writes h) r) n.role (finished_trees ts) g.named g.known in
      let o = taken-all R law.names law.writes h (g.named, called) in
      let k = passed-all R law.names law.writes (is_known e) h (new-known (whole_in s) (whole_in s') e r) g.beside.passes g.known in
      let f = trees-after R law.form h a last no_slot g.proper g.formed in
      record { beside = beside-after first e s s' o k.1 f.names g.beside; named = o.kept.bare.named; known = k.0; proper = f.proper; formed = f.formed }

  -- A STATEMENT LIST with what is pending for it; what is pending around it is of any kind

  -- whether a field is a list of this sort
  abbrev pub list_test : Sort → Field → Bool
  list_test a (statements ts) = trees_form a a ts
  list_test a f = false

  pub record ListGoes (a : Sort) (e : Whole) (s : Ledger) (f : OpenField) : Type 0 where
    pub more : UsesMore first (whole_in s)
    pub this : this_in s ≡ None
    pub top : top_in s ≡ no_additions
    pub named : NamedBy (whole_in s).in_use (whole_in s).free_symbol n.role (finished_field f)
    pub known : PassesBy (is_known e) (finished_field f)
    pub proper : IsProperField false f
    pub formed : list_test a (finished_field f) ≡ true

  list-holds : (a : Sort) → is_of_sort a VariableDeclaration ≡ true → (is_slot n.above ≡ true → ⊥) → Holds (list_test a) n false
  list-holds a takes no_slot = record {
    at_one = λ t h. absurd (cc h);
    at_many = λ ts h. absurd (cc h);
    at_statements = λ ts h. record { sort = a; formed = h; no_slot = no_slot; declares = takes; back = λ us d. d };
  }

  -- names of a list in which a step was taken pass a test, whatever is pending around the list
  list-passes : (q : Text → Option ℕ → Bool) {s s' : Ledger} {p : Pending} {y : Option Bound} {d : Additions} {ts : OpenTrees} {g : OpenField} → FieldStep R n s (list p y d ts) s' g → Allows q (whole_in s) (whole_in s') → PassesName q (this_in s) → PassesTop q (top_in s) → IsPlainList p y d → PassesBy q (finished_field (list p y d ts)) → PassesBy q (finished_field g)
  list-passes q (in_list e f h) a b c plain k = (passed-by R law.names law.writes q (in_list {o = nothing_pending} e f h) a (record { pending = record { vars = tt; lets = tt }; this = b; top = c }) k).0
  list-passes q (in_target e h) a b c plain k = (passed-by R law.names law.writes q (in_target {o = nothing_pending} e h) a (record { pending = record { vars = tt; lets = tt }; this = b; top = c }) k).0
  list-passes q (in_program e h) a b c plain k = (passed-by R law.names law.writes q (in_program {o = nothing_pending} e h) a (record { pending = record { vars = tt; lets = tt }; this = b; top = c }) k).0
  list-passes q (acts_on_list {s = s} {s' = s'} {p = p} {q = p'} {x = x} {y = y} {a = d} {b = d'} ts us h) a b c plain k =
      let found = law.form.at_lists n s s' p p' x y d d' ts us h plain in
      subst (λ (z : Trees). PassesAll q z) (ap (λ z. whole_list p x d z) (finished-trees ts) ∙ found.trees ∙ sym (ap (λ z. whole_list p' y d' z) (finished-trees us))) k

  list-known : (a : Sort) (e : Whole) (s s' : Ledger) (f g : OpenField) → Recalled (whole_in s') e → ListGoes a e s f → FieldStep R n s f s' g → PassesBy (is_known e) (finished_field g)
  list-known a e s s' gap g r k h = absurd (cc k.formed)
  list-known a e s s' (child t) g r k h = absurd (cc k.formed)
  list-known a e s s' (body p t) g r k h = absurd (cc k.formed)
  list-known a e s s' (children ts) g r k h = absurd (cc k.formed)
  list-known a e s s' (list p y d ts) g r k h =
      list-passes (is_known e) h (new-known (whole_in s) (whole_in s') e r)
      (subst (λ (x : Option Bound). PassesName (is_known e) x) (sym k.this) tt)
      (subst (λ (x : Additions). PassesTop (is_known e) x) (sym k.top) (record { imports = tt; excluded = tt }))
      k.proper.0 k.known

  pub list-goes : (a : Sort) → is_of_sort a VariableDeclaration ≡ true → (is_slot n.above ≡ true → ⊥) → (e : Whole) (s s' : Ledger) (f g : OpenField) → Recalled (whole_in s') e → ListGoes a e s f → FieldStep R n s f s' g → ListGoes a e s' g
  list-goes a takes no_slot e s s' f g r k h =
      let called = called-by (whole_in s) e (recalled-both (whole_in s) (whole_in s') e (recalled-by R law.names law.writes h) r) n.role (finished_field f) k.named k.known in
      let o = taken-by R law.names law.writes h (k.named, called) in
      let m = field-after R law.form h (list_test a) false (list-holds a takes no_slot) k.proper k.formed in
      record { more = λ x d. o.more x (k.more x d); this = m.names.this ∙ k.this; top = m.names.top ∙ k.top; named = o.kept.named; known = list-known a e s s' f g r k h; proper = m.proper; formed = m.formed }
