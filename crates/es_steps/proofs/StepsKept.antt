-- Steps in a row keep what a program has, and what is reached has it.
use Rattle.std.proofs.Common.{arith, inl, inr, ◌≤◌, ◌<◌, ◌≡◌, ℕ, refl, sym, ap, subst, ◌∙◌, List, [], ◌∷◌, ◌++◌}
use Rattle.std.specs.Prelude.{◌⊎◌, Bool, true, Option, Some, None, map}
use Rattle.std.proofs.lemmas.Slice.Eq.{bytes_eq-Decides}
use Rattle.es_tree.specs.Tree.{Tree, kind_of}
use Rattle.es_tree.specs.Words.{Text}
use Rattle.std.proofs.lemmas.Bool.{cases_lt}
use Rattle.es_resolution.specs.Single.{IsSingle, scopes_with}
use Rattle.es_tree.specs.declared.ast_type.AstType.{AstType}
use Rattle.es_tree.specs.declared.ast_type.AstType.TheVariants.{Program}
use Rattle.es_semantic.specs.RolesOf.{reads}
use Rattle.es_resolution.specs.Declarations.{Bound, sought, is_var_scope}
use Rattle.es_resolution.specs.Resolved.{no_name, nowhere, IsResolved}
use Rattle.es_resolution.specs.Named.{Named}
use Rattle.es_steps.specs.Nodes.{declarator}
use Rattle.es_steps.specs.Open.{Pending, Open, opened, finished}
use Rattle.es_steps.specs.Steps.{Whole, Ledger, Site, Spot, the_program, Step, Steps}
use Rattle.es_steps.specs.Steps.Steps.{stays, goes}
use Rattle.es_steps.specs.Identifiers.{Passes, any_name, is_called}
use Rattle.es_steps.specs.Laws.{IsWellBound, nothing_beside, StepsKeep, ReachedKeeps}
use Rattle.es_steps.proofs.Kept.{Change, Known, Kept}
use Rattle.es_steps.proofs.Same.{at-most-once}
use Rattle.es_steps.proofs.Kept.Change.{above, below, lexed, sealed}
use Rattle.es_steps.proofs.Opened.{finished-opened}
use Rattle.es_steps.proofs.Taken.{whole_in, pending_in, this_in, After, Goes, known, at-least, Lawful, Writes, Allows, LedgerPasses, taken}
use Rattle.es_steps.proofs.Passed.{Recalled, recalled, passed}
use Rattle.es_steps.proofs.Passing.{called-passes, passes-called, passes-less}
use Rattle.es_steps.proofs.Taken.Goes.{to_list, to_this}

-- nothing is pending outside the program that has a name
pub record IsClean (s : Ledger) : Type 0 where
  pub vars : (pending_in s).vars ≡ []
  pub this : this_in s ≡ None

no-trees : (t : Tree) (ts : List Tree) → ◌≡◌ {A = List Tree} (t ∷ ts) [] → ⊥
no-trees t ts e = absurd (cc e)

first-none : (ts us : List Tree) → ts ++ us ≡ [] → ts ≡ []
first-none [] us e = refl
first-none (t ∷ ts) us e = absurd (no-trees t (ts ++ us) e)

second-none : (ts us : List Tree) → ts ++ us ≡ [] → us ≡ []
second-none [] us e = e
second-none (t ∷ ts) us e = absurd (no-trees t (ts ++ us) e)

none-given : (bs : List Bound) → map declarator bs ≡ [] → (y : Text) (o : Option ℕ) → sought bs y ≡ Some o → ⊥
none-given [] e y o d = absurd (cc d)
none-given (b ∷ bs) e y o d = absurd (no-trees (declarator b) (map declarator bs) e)

some-none : (x : Bound) → ◌≡◌ {A = Option Bound} (Some x) None → ⊥
some-none x e = absurd (cc e)

-- nothing is pending before where nothing is afterwards
clean-before : (c : Change) (g : Goes) (given : List Bound) (s s' : Ledger) → After c g given s s' → IsClean s' → IsClean s
clean-before above to_list given s s' e d = record { vars = first-none (pending_in s).vars (map declarator given) (sym (ap (λ (z : Pending). z.vars) e.pending) ∙ d.vars); this = sym e.this ∙ d.this }
clean-before above to_this given s s' e d = absurd (some-none e.name (sym e.after ∙ d.this))
clean-before below g given s s' e d = record { vars = sym (ap (λ (z : Pending). z.vars) e.pending) ∙ d.vars; this = sym e.this ∙ d.this }
clean-before lexed g given s s' e d = record { vars = sym (ap (λ (z : Pending). z.vars) e.pending) ∙ d.vars; this = sym e.this ∙ d.this }
clean-before sealed g given s s' e d = record { vars = sym (ap (λ (z : Pending). z.vars) e.pending) ∙ d.vars; this = sym e.this ∙ d.this }

module _ (n : Known) where
  at-top : (c : Change) (g : Goes) (s s' : Ledger) (t u : Tree) → After c g n.given s s' → IsClean s' → is_var_scope (kind_of t) ≡ true → Kept n nowhere c reads t u → IsResolved t → IsResolved u
  at-top above to_list s s' t u e d b k h =
      let none = second-none (pending_in s).vars (map declarator n.given) (sym (ap (λ (z : Pending). z.vars) e.pending) ∙ d.vars) in
      k.resolved nowhere nowhere (record { scope = λ y g. refl; hoist = λ y g. refl }) (λ f. record { used = λ y g. refl; new = λ f y o g. refl }) (record { scope = λ y o g. absurd (none-given n.given none y o g); hoist = λ y o g. absurd (none-given n.given none y o g) }) (record { scope = refl; parameters = λ f. refl }) h
  at-top above to_this s s' t u e d b k h = absurd (some-none e.name (sym e.after ∙ d.this))
  at-top below g s s' t u e d b k h = absurd ((k.top b).0 refl)
  at-top lexed g s s' t u e d b k h = absurd ((k.top b).1 refl)
  at-top sealed g s s' t u e d b k h = k.resolved nowhere nowhere (record { scope = λ y g. refl; hoist = λ y g. refl }) (λ f. record { used = λ y g. refl; new = λ f y o g. refl }) tt (record { scope = refl; parameters = λ f. refl }) h

  single-top : (c : Change) (t u : Tree) → Kept n nowhere c reads t u → IsSingle t → (s : ℕ) → scopes_with s no_name reads u ≤ 1
  single-top c t u k h s = at (cases_lt s n.free)
    where
      at : (s < n.free) ⊎ (n.free ≤ s) → scopes_with s no_name reads u ≤ 1
      at (inl e) = let same = k.scopes s no_name e in let before = h s in omega arith
      at (inr e) = at-most-once c n s (scopes_with s no_name reads u) (k.new_scopes s no_name e)

-- what a row of steps leads to, where each symbol is to have the name that it has in the end
pub record Led (ends : ℕ → Text) (s s' : Ledger) (t u : Tree) : Type 0 where
  pub clean : IsClean s' → IsClean s
  pub resolved : IsClean s' → IsResolved t → IsResolved u
  pub single : IsSingle t → IsSingle u
  pub named : Named (whole_in s').in_use (whole_in s').free_symbol reads u
  pub passes : Passes (is_called ends) u

module _ (R : Site → Ledger → Spot → Ledger → Spot → Type 0) (law : Lawful R) (writes : Writes R) where
  -- symbols keep their names through steps
  pub all-recalled : {s s' : Ledger} {t u : Open} → Steps (Step R the_program) s t s' u → Recalled (whole_in s) (whole_in s')
  all-recalled (stays {s = s}) = record { freer = at-least (whole_in s).free_symbol; same = λ m e. refl }
  all-recalled (goes {s = s} {s' = m} one rest) =
      let a = recalled R law writes one in
      let b = all-recalled rest in
      record { freer = up-to (whole_in s).free_symbol _ _ a.freer b.freer; same = λ k e. b.same k (reaches k (whole_in s).free_symbol (whole_in m).free_symbol e a.freer) ∙ a.same k e }
    where
      up-to : (a b c : ℕ) → a ≤ b → b ≤ c → a ≤ c
      up-to a b c e d = omega arith

      reaches : (k a b : ℕ) → k < a → a ≤ b → k < b
      reaches k a b e d = omega arith

  -- a test that what is written passes in the end, it passes at each step
  at-step : (q : Text → Option ℕ → Bool) (w m w' : Whole) → Recalled w m → Recalled m w' → Allows q w w' → Allows q w m
  at-step q w m w' a b h = record { words = h.words; new = λ k e d. (λ i. q (sym (b.same k d) i) (Some k)) ∙ h.new k e (longer-free k d b.freer) }
    where
      longer-free : (k : ℕ) → k < m.free_symbol → m.free_symbol ≤ w'.free_symbol → k < w'.free_symbol
      longer-free k d e = omega arith

  later-step : (q : Text → Option ℕ → Bool) (w m w' : Whole) → Recalled w m → Allows q w w' → Allows q m w'
  later-step q w m w' a h = record { words = h.words; new = λ k e d. h.new k (no-less k e a.freer) d }
    where
      no-less : (k : ℕ) → m.free_symbol ≤ k → w.free_symbol ≤ m.free_symbol → w.free_symbol ≤ k
      no-less k e d = omega arith

  pub all-passed : (q : Text → Option ℕ → Bool) {s s' : Ledger} {t u : Open} → Steps (Step R the_program) s t s' u → Allows q (whole_in s) (whole_in s') → LedgerPasses q s → Passes q (finished t) → Passes q (finished u)
  all-passed q stays a b h = h
  all-passed q (goes {s = s} {s' = m} {s'' = s'} one rest) a b h =
      let r = recalled R law writes one in
      let k = passed R law writes q one (at-step q (whole_in s) (whole_in m) (whole_in s') r (all-recalled rest) a) b h in
      all-passed q rest (later-step q (whole_in s) (whole_in m) (whole_in s') r a) k.1 k.0

  pub led : (ends : ℕ → Text) {s s' : Ledger} {t u : Open} → Steps (Step R the_program) s t s' u → ((m : ℕ) → m < (whole_in s').free_symbol → ends m ≡ (whole_in s').called m) → is_var_scope (kind_of (finished t)) ≡ true → Named (whole_in s).in_use (whole_in s).free_symbol reads (finished t) → LedgerPasses (is_called ends) s → Passes (is_called ends) (finished t) →
      Led ends s s' (finished t) (finished u)
  led ends stays end b used beside names = record { clean = λ e. e; resolved = λ e h. h; single = λ h. h; named = used; passes = names }
  led ends (goes {s = s} {s' = m} {s'' = s'} {t = t} {u = u} {v = v} one rest) end b used beside names =
      let r = recalled R law writes one in
      let rs = all-recalled rest in
      let same : (k : ℕ) → k < (whole_in m).free_symbol → ends k ≡ (whole_in m).called k = λ k e. end k (longer-free k e rs.freer) ∙ rs.same k e in
      let called = passes-called (whole_in s).called ends (whole_in s).free_symbol (λ k e. same k (longer-first k e r.freer) ∙ r.same k e) (whole_in s).in_use reads (finished t) used names in
      let o = taken R law writes one (used, called) in
      let k = passed R law writes (is_called ends) one (record { words = λ x. refl; new = λ k e d. (bytes_eq-Decides ((whole_in m).called k) (ends k)).1 (sym (same k d)) }) beside names in
      let later = led ends rest end (o.kept.kind ∙ b) o.kept.named k.1 k.0 in
      record {
        clean = λ e. clean-before o.change o.goes o.given s m o.beside (later.clean e);
        resolved = λ e h. later.resolved e (at-top (known o) o.change o.goes s m (finished t) (finished u) o.beside (later.clean e) b o.kept h);
        single = λ h. later.single (λ k. single-top (known o) o.change (finished t) (finished u) o.kept h k);
        named = later.named;
        passes = later.passes;
      }
    where
      longer-free : (k : ℕ) → k < (whole_in m).free_symbol → (whole_in m).free_symbol ≤ (whole_in s').free_symbol → k < (whole_in s').free_symbol
      longer-free k d e = omega arith

      longer-first : (k : ℕ) → k < (whole_in s).free_symbol → (whole_in s).free_symbol ≤ (whole_in m).free_symbol → k < (whole_in m).free_symbol
      longer-first k d e = omega arith

program-kind : (k : AstType) → k ≡ Program → is_var_scope k ≡ true
program-kind k e = rw e

-- nothing is pending outside the program
pub none-beside : (q : Text → Option ℕ → Bool) (w : Whole) → LedgerPasses q (nothing_beside w)
none-beside q w = record { pending = record { vars = tt; lets = tt }; this = tt; top = record { imports = tt; excluded = tt } }

module _ (R : Site → Ledger → Spot → Ledger → Spot → Type 0) (law : Lawful R) (writes : Writes R) where
  pub steps-keep : StepsKeep R
  steps-keep t w w' o k h steps =
      let r = all-recalled R law writes steps in
      let names = called-passes w.called w'.called w.free_symbol r.same w.in_use reads t h.named h.called h.class_names in
      let opens = λ (P : Tree → Type 0) (z : P t). subst P (sym (finished-opened t)) z in
      let all = led R law writes w'.called steps (λ m e. refl) (ap (λ (a : Tree). is_var_scope (kind_of a)) (finished-opened t) ∙ program-kind (kind_of t) k) (opens (λ a. Named w.in_use w.free_symbol reads a) h.named) (none-beside (is_called w'.called) w) (opens (λ a. Passes (is_called w'.called) a) names) in
      record {
        resolved = all.resolved (record { vars = refl; this = refl }) (opens (λ a. IsResolved a) h.resolved);
        single = all.single (opens (λ a. IsSingle a) h.single);
        named = all.named;
        called = passes-called w'.called w'.called w'.free_symbol (λ m e. refl) w'.in_use reads (finished o) all.named all.passes;
        class_names = passes-less (is_called w'.called) any_name (λ x s e. refl) (finished o) all.passes;
      }

  pub reached-keeps : ReachedKeeps R
  reached-keeps p q w w' k h steps = subst (λ (a : Tree). IsWellBound w' a) (finished-opened q) (steps-keep p w w' (opened q) k h steps)
