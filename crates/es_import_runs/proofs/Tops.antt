-- The program that imports a helper, or requires it: its list is that of the program before, with a statement behind the first imports, which asks nothing and
-- sets a hidden cell; and so it is of other such statements.
use Rattle.std.proofs.Common.{◌≡◌, ◌∙◌, refl, sym, ap, subst, List, [], ◌∷◌, ◌++◌}
use Rattle.std.specs.Prelude.{◌||◌, Bool, true, false, Option, None, Some, bytes_eq, codes, if◌then◌else◌}
use Rattle.es_tree.specs.Scopes.{Declared}
use Rattle.es_tree.specs.Tree.{Tree, Label, ◌then◌, Trees, empty, ◌before◌}
use Rattle.es_tree.specs.Words.{Text}
use Rattle.es_runs.specs.Alike.{Alike, Equal, Frame, SameWorld}
use Rattle.es_runs.specs.Alike.Agree.{agree}
use Rattle.es_runs.specs.Core.{Binding, Meaning, Silent, World, declared, declarator, gives_value, in_order, is_free, literal, name, value}
use Rattle.es_runs.specs.Core.Binding.{free, silent}
use Rattle.es_runs.specs.Core.Form.{other}
use Rattle.es_runs.specs.Core.Silent.{helper_name}
use Rattle.es_runs.specs.Machine.{M, Value, ◌>>=◌, return, set_cell}
use Rattle.es_runs.specs.Machine.OwnValue.{helper}
use Rattle.es_runs.specs.Machine.Value.{own, undefined}
use Rattle.es_runs.specs.Runs.{only, program}
use Rattle.es_runs.proofs.Basic.{return_alike, then_alike}
use Rattle.es_steps.specs.Nodes.{call_node, declarator_with, identifier, joined_trees, string_node, word}
use Rattle.es_steps.specs.Open.{after_imports, is_import}
use Rattle.es_statement_runs.specs.Alike.{Quiet, SensesLike, StackSeen}
use Rattle.es_statement_runs.specs.Alike.SensesLike.{no_sense, sense_and}
use Rattle.es_statement_runs.specs.Calls.{call_by, core_call, required_or}
use Rattle.es_statement_runs.specs.Helpers.{Supply, helper_in, imported_helper, imported_helpers}
use Rattle.es_statement_runs.specs.Helpers.Supply.{by_require}
use Rattle.es_statement_runs.specs.Kinds.{kind_in, sense, senses}
use Rattle.es_statement_runs.specs.Laws.{any_cells, apart_from}
use Rattle.es_statement_runs.specs.Names.{top_in, top_names, using_here, using_in}
use Rattle.es_statement_runs.specs.Places.{placed_at, value_taken}
use Rattle.es_statement_runs.specs.Senses.{Place, Sense, cores, plain_sense, said_in}
use Rattle.es_statement_runs.specs.StatementParts.{asked_by, begun, declarator_by, first_asked}
use Rattle.es_statement_runs.proofs.Catches.{hide_set}
use Rattle.es_statement_runs.proofs.Programs.{body_taken}
use Rattle.es_statement_runs.proofs.SensesAlike.{begun_like, bodies_like, ends_like}
use Rattle.es_statement_runs.proofs.Combinators.{stack_alike}
use Rattle.es_runs.proofs.Temporary.{bytes_eq-self}
use Rattle.es_top_imports.specs.TopImports.{Import, import_of, require_of}

-- A STATEMENT MORE that asks nothing, but may set hidden cells
pub record IsSilent (o : Supply) (hidden : Text → Bool) (v : World) (n : Tree) : Type 0 where
  pub begins : (us : Trees) (m k : M Value) → Alike (any_cells hidden) Equal m (begun (senses (placed_at o v [] []) us) k) → Alike (any_cells hidden) Equal m (begun (senses (placed_at o v [] []) (n before us)) k)
  pub goes : (us : Trees) (m : M Value) → Alike (any_cells hidden) Equal m (in_order v (cores (senses (placed_at o v [] []) us))) → Alike (any_cells hidden) Equal m (in_order v (cores (senses (placed_at o v [] []) (n before us))))

hidden_first : (x : Text) (u : Value) {m k : M Value} → Alike (apart_from x) Equal m k → Alike (apart_from x) Equal m ((set_cell x u >>= λ _. return undefined) >>= λ _. k)
hidden_first x u h _ _ (agree f g i) = hide_set (only x) x u (bytes_eq-self x) h _ _ (agree f g i)

-- an import of a name that stands for a helper is one
pub import_silent : (o : Supply) (i : Import) (t : Text) (v : World) → v.scope i.local.name ≡ silent (helper_name t) → IsSilent o (only i.local.name) v (import_of i)
import_silent o i t v bound = record { begins = begins; goes = λ us m h. λ s t a. h s t a }
  where
    asked : (us : Trees) (k : M Value) → begun (senses (placed_at o v [] []) (import_of i before us)) k ≡ ((set_cell i.local.name (own (helper t)) >>= λ _. return undefined) >>= λ _. begun (senses (placed_at o v [] []) us) k)
    asked us k = ap (λ (b : Binding). (asked_by b i.source (codes "default") i.local.name >>= λ _. return undefined) >>= λ _. begun (senses (placed_at o v [] []) us) k) bound

    begins : (us : Trees) (m k : M Value) → Alike (apart_from i.local.name) Equal m (begun (senses (placed_at o v [] []) us) k) → Alike (apart_from i.local.name) Equal m (begun (senses (placed_at o v [] []) (import_of i before us)) k)
    begins us m k h = subst (λ (q : M Value). Alike (apart_from i.local.name) Equal m q) (sym (asked us k)) (hidden_first i.local.name (own (helper t)) h)

free_so : (b : Binding) → is_free b ≡ true → b ≡ free
free_so free e = refl
free_so _ e = absurd (cc e)

-- and so is a `var` that requires it, where nothing binds `require`: the call is the helper
module _ (m t : Text) (i : Import) (v : World) (bound : v.scope i.local.name ≡ silent (helper_name t)) (unbound : is_free (v.scope (codes "require")) ≡ true) (known : helper_in m i.source ≡ Some t) where
  abbrev x : Text
  x = i.local.name

  abbrev here : Place
  here = placed_at (by_require m) v [] []

  abbrev there : Place
  there = placed_at (by_require m) v [] (codes "var")

  abbrev callee : Sense
  callee = sense here (word (codes "require"))

  abbrev given : List Sense
  given = sense here (string_node i.source) ∷ []

  abbrev call : Tree
  call = call_node (word (codes "require")) (string_node i.source ∷ [])

  required : sense here call ≡ plain_sense (literal (own (helper t)) other)
  required =
      ap (λ (b : Binding). call_by here callee given (said_in (by_require m) b)) (free_so (v.scope (codes "require")) unbound) ∙
      (λ j. required_or (if unbound j then known j else None) (plain_sense (core_call v false callee given)))

  abbrev set_name : Meaning
  set_name = declarator v (name x) (literal (own (helper t)) other)

  declares : sense there (declarator_with (identifier i.local) call) ≡ plain_sense set_name
  declares =
      ap (λ (b : Binding). declarator_by there (said_in (by_require m) b) (sense here (identifier i.local)) (sense here call) (declarator v (name x) (sense here call).core)) bound ∙
      ap (λ (e : Sense). plain_sense (declarator v (name x) e.core)) required

  statement : sense here (require_of i) ≡ plain_sense (gives_value (declared false (set_name ∷ [])))
  statement = ap (λ (d : Sense). record { core = gives_value (declared false (d.core ∷ [])); more = d.more }) declares

  set_first : {m k : M Value} → Alike (apart_from x) Equal m k → Alike (apart_from x) Equal m (value v (gives_value (declared false (set_name ∷ []))) >>= λ _. k)
  set_first h _ _ (agree f g i) = hide_set (only x) x (own (helper t)) (bytes_eq-self x) h _ _ (agree f g i)

  pub require_silent : IsSilent (by_require m) (only x) v (require_of i)
  require_silent = record {
    begins = λ us m k h. subst (λ (s : Sense). Alike (apart_from x) Equal m (first_asked s.more (begun (senses here us) k))) (sym statement) h;
    goes = λ us m h. subst (λ (s : Sense). Alike (apart_from x) Equal m (value v s.core >>= λ _. in_order v (cores (senses here us)))) (sym statement) (set_first h);
  }

-- A LIST with it behind the first imports

module _ (u o : Supply) (hidden : Text → Bool) (w v : World) (same : SameWorld hidden w v) (quiet : Quiet (any_cells hidden)) (n : Tree) (silent : IsSilent o hidden v n) where
  abbrev F : Frame
  F = any_cells hidden

  begun_after : (ts us : Trees) → SensesLike F w v body_taken (senses (placed_at u w [] []) ts) (senses (placed_at o v [] []) us) → {m k : M Value} → Alike F Equal m k →
      Alike F Equal (begun (senses (placed_at u w [] []) ts) m) (begun (senses (placed_at o v [] []) (after_imports (n before empty) us)) k)
  begun_after empty empty no_sense i = silent.begins empty _ _ i
  begun_after empty (b before us) h i = elim h [ ]
  begun_after (a before ts) empty h i = elim h [ ]
  begun_after (a before ts) (b before us) (sense_and h hs) {m = m} {k = k} i = at (begun_after ts us hs i) (is_import b)
    where
      at : Alike F Equal (begun (senses (placed_at u w [] []) ts) m) (begun (senses (placed_at o v [] []) (after_imports (n before empty) us)) k) → (c : Bool) → Alike F Equal (begun (senses (placed_at u w [] []) (a before ts)) m) (begun (senses (placed_at o v [] []) (if c then b before after_imports (n before empty) us else joined_trees (n before empty) (b before us))) k)
      at later true = begun_like F quiet w v same (sense_and h no_sense) later
      at later false = silent.begins (b before us) _ _ (begun_like F quiet w v same (sense_and h hs) i)

  order_after : (ts us : Trees) → SensesLike F w v body_taken (senses (placed_at u w [] []) ts) (senses (placed_at o v [] []) us) →
      Alike F Equal (in_order w (cores (senses (placed_at u w [] []) ts))) (in_order v (cores (senses (placed_at o v [] []) (after_imports (n before empty) us))))
  order_after empty empty no_sense = silent.goes empty _ (return_alike F undefined)
  order_after empty (b before us) h = elim h [ ]
  order_after (a before ts) empty h = elim h [ ]
  order_after (a before ts) (b before us) (sense_and h hs) = at (order_after ts us hs) (is_import b)
    where
      at : Alike F Equal (in_order w (cores (senses (placed_at u w [] []) ts))) (in_order v (cores (senses (placed_at o v [] []) (after_imports (n before empty) us)))) → (c : Bool) → Alike F Equal (in_order w (cores (senses (placed_at u w [] []) (a before ts)))) (in_order v (cores (senses (placed_at o v [] []) (if c then b before after_imports (n before empty) us else joined_trees (n before empty) (b before us)))))
      at later true = then_alike F h.core.evaluation (λ z. later)
      at later false = silent.goes (b before us) _ (bodies_like F quiet w v same refl (sense_and h hs))

  module _ (stack : StackSeen F) (apart : using_here n ≡ false) where
    using_after : (us : Trees) → using_in (after_imports (n before empty) us) ≡ using_in us
    using_after empty = rw apart refl
    using_after (b before us) = at (using_after us) (is_import b)
      where
        at : using_in (after_imports (n before empty) us) ≡ using_in us → (c : Bool) → using_in (if c then b before after_imports (n before empty) us else joined_trees (n before empty) (b before us)) ≡ using_in (b before us)
        at later true = ap (λ (z : Bool). using_here b || z) later
        at later false = rw apart refl

    -- the programs mean the same but for that cell
    pub program_after : (l : Label) (ds es ts us : Trees) → SensesLike F w v body_taken (senses (placed_at u w [] []) ts) (senses (placed_at o v [] []) us) → using_in us ≡ using_in ts →
        Alike F Equal (value w (sense (placed_at u w [] []) (program l ds ts)).core) (value v (sense (placed_at o v [] []) (program l es (after_imports (n before empty) us))).core)
    program_after l ds es ts us h uses = rw (using_after us, uses) ((ends_like F quiet w v same value_taken (begun_after ts us h (stack_alike F quiet (using_in ts) (λ _. stack) (order_after ts us h)))).core.evaluation)

-- WHAT THE TOP DECLARES

kind_front : (ds es fs : List Declared) (y : Text) → kind_in es y ≡ kind_in fs y → kind_in (ds ++ es) y ≡ kind_in (ds ++ fs) y
kind_front [] es fs y h = h
kind_front (d ∷ ds) es fs y h = ap (λ (k : Option Text). if bytes_eq y d.name then Some d.kind else k) (kind_front ds es fs y h)

module _ (y : Text) (n : Tree) (apart : (es : List Declared) → kind_in (top_names n ++ es) y ≡ kind_in es y) where
  pub kinds_after : (us : Trees) → kind_in (top_in (after_imports (n before empty) us)) y ≡ kind_in (top_in us) y
  kinds_after empty = apart []
  kinds_after (b before us) = at (kinds_after us) (is_import b)
    where
      at : kind_in (top_in (after_imports (n before empty) us)) y ≡ kind_in (top_in us) y → (c : Bool) → kind_in (top_in (if c then b before after_imports (n before empty) us else joined_trees (n before empty) (b before us))) y ≡ kind_in (top_in (b before us)) y
      at later true = kind_front (top_names b) (top_in (after_imports (n before empty) us)) (top_in us) y later
      at later false = apart (top_in (b before us))

-- THE NAMES that stand for helpers

pub none_both : {A : Type 0} (xs ys : List A) → xs ++ ys ≡ [] → (xs ≡ []) × (ys ≡ [])
none_both [] ys h = (refl, h)
none_both (x ∷ xs) ys h = absurd (cc h)

module _ (m : Text) (n : Tree) (e : Text × Silent) (one : imported_helper m n ≡ e ∷ []) where
  pub imported_after : (us : Trees) → imported_helpers m us ≡ [] → imported_helpers m (after_imports (n before empty) us) ≡ e ∷ []
  imported_after empty h = rw one refl
  imported_after (b before us) h = let d = none_both (imported_helper m b) (imported_helpers m us) h in at d.0 (imported_after us d.1) (is_import b)
    where
      at : imported_helper m b ≡ [] → imported_helpers m (after_imports (n before empty) us) ≡ e ∷ [] → (c : Bool) → imported_helpers m (if c then b before after_imports (n before empty) us else joined_trees (n before empty) (b before us)) ≡ e ∷ []
      at first later true = (λ j. first j ++ imported_helpers m (after_imports (n before empty) us)) ∙ later
      at first later false = (λ j. one j ++ imported_helpers m (b before us)) ∙ (λ j. e ∷ h j)
