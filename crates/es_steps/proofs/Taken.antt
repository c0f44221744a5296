-- What a step keeps of an open program, once for all rules: from one lemma for each rule.
use Rattle.std.proofs.Common.{arith, ◌≤◌, ◌<◌, inl, inr, ◌≡◌, ℕ, zero, suc, refl, sym, ap, subst, ◌∙◌, List, [], ◌∷◌}
use Rattle.std.specs.Prelude.{◌⊎◌, Bool, true, false, Option, Some, None, is_some, codes, if◌then◌else◌}
use Rattle.es_tree.specs.Words.{Text}
use Rattle.es_tree.specs.Tree.{Tree, node, Label, Fields, Field, one, statements, Trees, empty, ◌before◌, trees}
use Rattle.es_tree.specs.declared.ast_type.AstType.{AstType}
use Rattle.es_tree.specs.declared.ast_type.AstType.TheVariants.{Identifier}
use Rattle.es_semantic.specs.declared.place.Role.TheVariants.{Binds}
use Rattle.es_semantic.specs.declared.place.Binding.TheVariants.{Class}
use Rattle.es_semantic.specs.RolesOf.{reads, role_at}
use Rattle.es_semantic.specs.declared.place.Role.{Role}
use Rattle.es_resolution.specs.Declarations.{Bound, sought, is_var_scope, reaches_out}
use Rattle.es_resolution.specs.Resolved.{place_in}
use Rattle.es_resolution.specs.Named.{Named, NamedIn, NamedBy, NamedAll}
use Rattle.es_resolution.specs.Called.{Called, CalledIn, CalledBy, CalledAll}
use Rattle.es_steps.specs.Identifiers.{Passes, PassesAll}
use Rattle.es_steps.specs.Nodes.{joined_trees}
use Rattle.es_steps.specs.Open.{is_import, after_imports, pending_statements, declaration, body_with, Pending, Additions, whole_list, written_body, with_vars, flanks_with, Open, OpenFields, OpenField, OpenTrees, opened, opened_trees, finished, finished_fields, finished_field, finished_trees, followed_by}
use Rattle.es_steps.specs.Steps.{Whole, Ledger, Site, Spot, IsExpression, names_in_body, Step, FieldsStep, FieldStep, TreesStep}
use Rattle.es_steps.specs.Steps.Ledger.{ledger}
use Rattle.es_steps.specs.Steps.Spot.{at_node, at_beside, at_body, at_list, at_trees}
use Rattle.es_steps.specs.Steps.Step.{acts, inside}
use Rattle.es_steps.specs.Steps.FieldsStep.{in_first, in_later}
use Rattle.es_steps.specs.Steps.FieldStep.{in_child, in_body, in_children, in_list, in_target, in_program, acts_on_body, acts_on_list}
use Rattle.es_steps.specs.Steps.TreesStep.{in_head, in_tail, in_flanked, after_flanked, flanks, acts_on_flanked}
use Rattle.es_steps.specs.Rules.{either_rule}
use Rattle.es_steps.proofs.Kept.{Change, Known, plain, Each, IsNew, Kept, KeptIn, KeptBy, KeptAll}
use Rattle.es_steps.proofs.Kept.Change.{above, below, lexed, sealed}
use Rattle.es_steps.proofs.Nodes.{closing, kept-node}
use Rattle.es_steps.proofs.Same.{as-one, as-many, as-statements, left-fields, right-fields, same-in, same-by, same-all}
use Rattle.es_steps.proofs.Lists.{goes_on, ListKept, list-left, list-right, list-after, list-same, list-several, whole-same, whole-more, whole-this, whole-named}
use Rattle.es_steps.proofs.Written.{named-joined, joined-twice}
use Rattle.es_steps.proofs.Passing.{PassesName, PassesPending, PassesTop}
use Rattle.es_steps.proofs.Opened.{finished-opened, finished-trees, finished-followed}
use Rattle.es_steps.proofs.Bodies.{body_change, body-named, body-same, body-more}

pub at-least : (m : ℕ) → m ≤ m
at-least m = omega arith

pub none-some : (o : Option ℕ) → ◌≡◌ {A = Option (Option ℕ)} None (Some o) → ⊥
none-some o e = absurd (cc e)

abbrev pub whole_in : Ledger → Whole
whole_in (ledger w p x a) = w

abbrev pub pending_in : Ledger → Pending
pending_in (ledger w p x a) = p

abbrev pub this_in : Ledger → Option Bound
this_in (ledger w p x a) = x

abbrev pub top_in : Ledger → Additions
top_in (ledger w p x a) = a

-- where names that are pending above belong: to the list, or to the target as its name for `this`
pub data Goes : Type 0 where
  to_list : Goes
  to_this : Goes

pub record ToThis (given : List Bound) (s s' : Ledger) : Type 0 where
  pub name : Bound
  pub alone : given ≡ name ∷ []
  pub none_before : this_in s ≡ None
  pub after : this_in s' ≡ Some name
  pub pending : pending_in s' ≡ pending_in s
  pub top : top_in s' ≡ top_in s

pub record Beside (p' p : Pending) (s s' : Ledger) : Type 0 where
  pub pending : p' ≡ p
  pub this : this_in s' ≡ this_in s
  pub top : top_in s' ≡ top_in s

-- what is pending afterwards
abbrev pub After : Change → Goes → List Bound → Ledger → Ledger → Type 0
After above to_list given s s' = Beside (pending_in s') (with_vars given (pending_in s)) s s'
After above to_this given s s' = ToThis given s s'
After below g given s s' = Beside (pending_in s') (pending_in s) s s'
After lexed g given s s' = Beside (pending_in s') (pending_in s) s s'
After sealed g given s s' = Beside (pending_in s') (pending_in s) s s'

-- what comes of a step: K is what is kept
pub record Outcome (K : Known → Change → Type 0) (s s' : Ledger) : Type 0 where
  pub given : List Bound
  pub change : Change
  pub goes : Goes
  pub more : (y : Text) → (whole_in s).in_use y ≡ true → (whole_in s').in_use y ≡ true
  pub freer : (whole_in s).free_symbol ≤ (whole_in s').free_symbol
  pub range : Each (λ b. IsNew (whole_in s).free_symbol (whole_in s').free_symbol b.symbol) given
  pub fresh : (y : Text) (o : Option ℕ) → sought given y ≡ Some o → (whole_in s).in_use y ≡ false
  pub sound : Each (λ b. (sought given b.name ≡ Some b.symbol) × (is_some b.symbol ≡ true) × ((whole_in s').in_use b.name ≡ true)) given
  pub beside : After change goes given s s'
  pub kept : K (record { in_use = (whole_in s).in_use; in_use_after = (whole_in s').in_use; given = given; free = (whole_in s).free_symbol; free_after = (whole_in s').free_symbol; more = more; freer = freer; range = range; fresh = fresh; sound = sound }) change

abbrev pub known : {K : Known → Change → Type 0} {s s' : Ledger} → Outcome K s s' → Known
known {s} {s'} h = record { in_use = (whole_in s).in_use; in_use_after = (whole_in s').in_use; given = h.given; free = (whole_in s).free_symbol; free_after = (whole_in s').free_symbol; more = h.more; freer = h.freer; range = h.range; fresh = h.fresh; sound = h.sound }

-- the same with something else kept
over : {K L : Known → Change → Type 0} {s s' : Ledger} (o : Outcome K s s') → L (known o) o.change → Outcome L s s'
over o k = record { given = o.given; change = o.change; goes = o.goes; more = o.more; freer = o.freer; range = o.range; fresh = o.fresh; sound = o.sound; beside = o.beside; kept = k }

-- WHAT IS IN USE in a tree, with its symbols under their names

abbrev pub Used : Whole → Role → Tree → Type 0
Used w r t = Named w.in_use w.free_symbol r t × Called w.called t

abbrev pub UsedIn : Whole → (ℕ → Role) → Fields → Type 0
UsedIn w roles fs = NamedIn w.in_use w.free_symbol roles fs × CalledIn w.called fs

abbrev pub UsedBy : Whole → Role → Field → Type 0
UsedBy w r f = NamedBy w.in_use w.free_symbol r f × CalledBy w.called f

abbrev pub UsedAll : Whole → Role → Trees → Type 0
UsedAll w r ts = NamedAll w.in_use w.free_symbol r ts × CalledAll w.called ts

-- A RULE IS LAWFUL

abbrev pub NodesKept : Site → Tree → Tree → Known → Change → Type 0
NodesKept n t u = λ k c. Kept k n.names c n.role t u

abbrev pub TreesKept : Site → Trees → Trees → Known → Change → Type 0
TreesKept n ts us = λ k c. KeptAll k n.names c n.role ts us

-- a list of statements, and with what is pending for it written
abbrev pub ListsKept : Site → Trees → Trees → Known → Change → Type 0
ListsKept n ts us = λ k c. ListKept k n.names c n.role ts us

pub record Lawful (R : Site → Ledger → Spot → Ledger → Spot → Type 0) : Type 0 where
  pub at_nodes : (n : Site) (s s' : Ledger) (t u : Tree) → R n s (at_node t) s' (at_node u) → Named (whole_in s).in_use (whole_in s).free_symbol n.role t → Called (whole_in s).called t → Outcome (NodesKept n t u) s s'
  pub flanking : (n : Site) (s s' : Ledger) (t u : Tree) (bs cs : List Tree) → R n s (at_node t) s' (at_beside bs u cs) → Named (whole_in s).in_use (whole_in s).free_symbol n.role t → Outcome (ListsKept n (t before empty) (flanks_with bs u cs empty)) s s'
  pub at_lists : (n : Site) (s s' : Ledger) (p q : Pending) (x y : Option Bound) (a b : Additions) (ts us : Trees) → R n s (at_list p x a ts) s' (at_list q y b us) → NamedAll (whole_in s).in_use (whole_in s).free_symbol n.role (whole_list p x a ts) → Outcome (TreesKept n (whole_list p x a ts) (whole_list q y b us)) s s'
  pub at_bodies : (n : Site) (s s' : Ledger) (p : Pending) (t u : Tree) → R n s (at_body p t) s' (at_node u) → (s ≡ s') × (written_body p t ≡ u)
  pub unflanking : (n : Site) (s s' : Ledger) (t : Tree) (bs cs : List Tree) (us : Trees) → R n s (at_beside bs t cs) s' (at_trees us) → (s ≡ s') × (flanks_with bs t cs empty ≡ us)

-- WHAT A RULE WRITES

-- a test that what is written passes: words without a symbol, and each new symbol under its name
pub record Allows (q : Text → Option ℕ → Bool) (w w' : Whole) : Type 0 where
  pub words : (x : Text) → q x None ≡ true
  pub new : (m : ℕ) → w.free_symbol ≤ m → m < w'.free_symbol → q (w'.called m) (Some m) ≡ true

-- what is pending around passes it
pub record LedgerPasses (q : Text → Option ℕ → Bool) (s : Ledger) : Type 0 where
  pub pending : PassesPending q (pending_in s)
  pub this : PassesName q (this_in s)
  pub top : PassesTop q (top_in s)

-- A rule leaves imports and makes none, and acts on no name of a class; symbols are numbered on, and keep their names; and each
-- identifier that it writes stood there or is new.
pub record Writes (R : Site → Ledger → Spot → Ledger → Spot → Type 0) : Type 0 where
  pub imports : (n : Site) (s s' : Ledger) (t u : Tree) → R n s (at_node t) s' (at_node u) → is_import u ≡ is_import t
  pub flanks_none : (n : Site) (s s' : Ledger) (t u : Tree) (bs cs : List Tree) → R n s (at_node t) s' (at_beside bs u cs) → (is_import t ≡ false) × (goes_on (flanks_with bs u cs empty) ≡ true)
  pub no_names : (n : Site) (s s' : Ledger) (l : Label) (fs : Fields) (y : Spot) → n.role ≡ Binds Class → R n s (at_node (node Identifier l fs)) s' y → ⊥
  pub freer : (n : Site) (s s' : Ledger) (x y : Spot) → R n s x s' y → (whole_in s).free_symbol ≤ (whole_in s').free_symbol
  pub same_called : (n : Site) (s s' : Ledger) (x y : Spot) → R n s x s' y → (m : ℕ) → m < (whole_in s).free_symbol → (whole_in s').called m ≡ (whole_in s).called m
  pub names : (q : Text → Option ℕ → Bool) (n : Site) (s s' : Ledger) (t u : Tree) → Allows q (whole_in s) (whole_in s') → LedgerPasses q s → R n s (at_node t) s' (at_node u) → Passes q t → Passes q u × LedgerPasses q s'
  pub names_beside : (q : Text → Option ℕ → Bool) (n : Site) (s s' : Ledger) (t u : Tree) (bs cs : List Tree) → Allows q (whole_in s) (whole_in s') → LedgerPasses q s → R n s (at_node t) s' (at_beside bs u cs) → Passes q t → PassesAll q (flanks_with bs u cs empty) × LedgerPasses q s'
  pub names_in_lists : (q : Text → Option ℕ → Bool) (n : Site) (s s' : Ledger) (p p' : Pending) (x y : Option Bound) (a b : Additions) (ts us : Trees) → Allows q (whole_in s) (whole_in s') → LedgerPasses q s → R n s (at_list p x a ts) s' (at_list p' y b us) → PassesAll q (whole_list p x a ts) → PassesAll q (whole_list p' y b us) × LedgerPasses q s'

-- where nothing changes
abbrev pub nothing_new : (w : Whole) → Known
nothing_new w = record { in_use = w.in_use; in_use_after = w.in_use; given = []; free = w.free_symbol; free_after = w.free_symbol; more = λ y h. h; freer = at-least w.free_symbol; range = tt; fresh = λ y o e. absurd (none-some o e); sound = tt }

nothing-more : {L : Known → Change → Type 0} (s : Ledger) → L (nothing_new (whole_in s)) sealed → Outcome L s s
nothing-more s k = record { given = []; change = sealed; goes = to_list; more = λ y h. h; freer = at-least (whole_in s).free_symbol; range = tt; fresh = λ y o e. absurd (none-some o e); sound = tt; beside = record { pending = refl; this = refl; top = refl }; kept = k }

pub unchanged-trees : (n : Site) (s s' : Ledger) (ts us : Trees) → s ≡ s' → ts ≡ us → NamedAll (whole_in s).in_use (whole_in s).free_symbol n.role ts → Outcome (TreesKept n ts us) s s'
unchanged-trees n s s' ts us e d used = subst (λ (s' : Ledger). Outcome (TreesKept n ts us) s s') e (subst (λ (us : Trees). Outcome (TreesKept n ts us) s s) d (nothing-more {L = TreesKept n ts ts} s (same-all (nothing_new (whole_in s)) n.names n.role ts used)))

unchanged-list : (n : Site) (s s' : Ledger) (ts us : Trees) → s ≡ s' → ts ≡ us → NamedAll (whole_in s).in_use (whole_in s).free_symbol n.role ts → Outcome (ListsKept n ts us) s s'
unchanged-list n s s' ts us e d used = subst (λ (s' : Ledger). Outcome (ListsKept n ts us) s s') e (subst (λ (us : Trees). Outcome (ListsKept n ts us) s s) d (nothing-more {L = ListsKept n ts ts} s (list-same (nothing_new (whole_in s)) n.names n.role ts used)))

unchanged-field : (n : Site) (s s' : Ledger) (f g : Field) → s ≡ s' → f ≡ g → NamedBy (whole_in s).in_use (whole_in s).free_symbol n.role f → Outcome (λ k c. KeptBy k n.names c n.role f g) s s'
unchanged-field n s s' f g e d used = subst (λ (s' : Ledger). Outcome (λ k c. KeptBy k n.names c n.role f g) s s') e (subst (λ (g : Field). Outcome (λ k c. KeptBy k n.names c n.role f g) s s) d (nothing-more {L = λ k c. KeptBy k n.names c n.role f f} s (same-by (nothing_new (whole_in s)) n.names n.role f used)))

pub both-lawful : {Q R : Site → Ledger → Spot → Ledger → Spot → Type 0} → Lawful Q → Lawful R → Lawful (either_rule Q R)
both-lawful {Q} {R} q r = record {
  at_nodes = λ n s s' t u h used called. pick {A = Q n s (at_node t) s' (at_node u)} {B = R n s (at_node t) s' (at_node u)} (λ g. q.at_nodes n s s' t u g used called) (λ g. r.at_nodes n s s' t u g used called) h;
  flanking = λ n s s' t u bs cs h used. pick {A = Q n s (at_node t) s' (at_beside bs u cs)} {B = R n s (at_node t) s' (at_beside bs u cs)} (λ g. q.flanking n s s' t u bs cs g used) (λ g. r.flanking n s s' t u bs cs g used) h;
  at_lists = λ n s s' p p' x y a b ts us h used. pick {A = Q n s (at_list p x a ts) s' (at_list p' y b us)} {B = R n s (at_list p x a ts) s' (at_list p' y b us)} (λ g. q.at_lists n s s' p p' x y a b ts us g used) (λ g. r.at_lists n s s' p p' x y a b ts us g used) h;
  at_bodies = λ n s s' p t u h. pick {A = Q n s (at_body p t) s' (at_node u)} {B = R n s (at_body p t) s' (at_node u)} (λ g. q.at_bodies n s s' p t u g) (λ g. r.at_bodies n s s' p t u g) h;
  unflanking = λ n s s' t bs cs us h. pick {A = Q n s (at_beside bs t cs) s' (at_trees us)} {B = R n s (at_beside bs t cs) s' (at_trees us)} (λ g. q.unflanking n s s' t bs cs us g) (λ g. r.unflanking n s s' t bs cs us g) h;
}
  where
    pick : {A B C : Type 0} → (A → C) → (B → C) → A ⊎ B → C
    pick f g (inl h) = f h
    pick f g (inr h) = g h

pub both-write : {Q R : Site → Ledger → Spot → Ledger → Spot → Type 0} → Writes Q → Writes R → Writes (either_rule Q R)
both-write {Q} {R} q r = record {
  imports = λ n s s' t u h. pick {A = Q n s (at_node t) s' (at_node u)} {B = R n s (at_node t) s' (at_node u)} (λ g. q.imports n s s' t u g) (λ g. r.imports n s s' t u g) h;
  flanks_none = λ n s s' t u bs cs h. pick {A = Q n s (at_node t) s' (at_beside bs u cs)} {B = R n s (at_node t) s' (at_beside bs u cs)} (λ g. q.flanks_none n s s' t u bs cs g) (λ g. r.flanks_none n s s' t u bs cs g) h;
  no_names = λ n s s' l fs y e h. pick {A = Q n s (at_node (node Identifier l fs)) s' y} {B = R n s (at_node (node Identifier l fs)) s' y} (λ g. q.no_names n s s' l fs y e g) (λ g. r.no_names n s s' l fs y e g) h;
  freer = λ n s s' x y h. pick {A = Q n s x s' y} {B = R n s x s' y} (λ g. q.freer n s s' x y g) (λ g. r.freer n s s' x y g) h;
  same_called = λ n s s' x y h m e. pick {A = Q n s x s' y} {B = R n s x s' y} (λ g. q.same_called n s s' x y g m e) (λ g. r.same_called n s s' x y g m e) h;
  names = λ p n s s' t u a b h k. pick {A = Q n s (at_node t) s' (at_node u)} {B = R n s (at_node t) s' (at_node u)} (λ g. q.names p n s s' t u a b g k) (λ g. r.names p n s s' t u a b g k) h;
  names_beside = λ p n s s' t u bs cs a b h k. pick {A = Q n s (at_node t) s' (at_beside bs u cs)} {B = R n s (at_node t) s' (at_beside bs u cs)} (λ g. q.names_beside p n s s' t u bs cs a b g k) (λ g. r.names_beside p n s s' t u bs cs a b g k) h;
  names_in_lists = λ p n s s' o o' x y c d ts us a b h k. pick {A = Q n s (at_list o x c ts) s' (at_list o' y d us)} {B = R n s (at_list o x c ts) s' (at_list o' y d us)} (λ g. q.names_in_lists p n s s' o o' x y c d ts us a b g k) (λ g. r.names_in_lists p n s s' o o' x y c d ts us a b g k) h;
}
  where
    pick : {A B C : Type 0} → (A → C) → (B → C) → A ⊎ B → C
    pick f g (inl h) = f h
    pick f g (inr h) = g h

-- LISTS

-- what a list keeps that has its own declarators
module _ (n : Site) (w w' : Whole) (o p q : Pending) (ts us : Trees) where
  abbrev FieldKept : Pending → Option Bound → Additions → Pending → Option Bound → Additions → Known → Change → Type 0
  FieldKept p x a q y b = λ k c. KeptBy k n.names c n.role (statements (whole_list p x a ts)) (statements (whole_list q y b us))

  abbrev like : (h : Known) (c : Change) (p q q' : Pending) (x y y' : Option Bound) (a b b' : Additions) → q ≡ q' → y ≡ y' → b ≡ b' → FieldKept p x a q y b h c → FieldKept p x a q' y' b' h c
  like h c p q q' x y y' a b b' e d f k = subst (λ (z : Pending). FieldKept p x a z y' b' h c) e (subst (λ (z : Option Bound). FieldKept p x a q z b' h c) d (subst (λ (z : Additions). FieldKept p x a q y z h c) f k))

  -- another list
  in-list : (x x' y : Option Bound) (a a' b : Additions) → NamedAll w.in_use w.free_symbol n.role (whole_list p y b ts) → Outcome (ListsKept n ts us) (ledger w p x a) (ledger w' q x' a') → Outcome (FieldKept p y b q y b) (ledger w o x a) (ledger w' o x' a')
  in-list x x' y a a' b used h = at h.change h.goes h.beside h.kept
    where
      still : (c : Change) → q ≡ p → ListKept (known h) n.names c n.role ts us → FieldKept p y b q y b (known h) c
      still c e k = like (known h) c p p q y y y b b b (sym e) refl refl (as-statements (known h) n.names c n.role (whole_list p y b ts) (whole_list p y b us) (whole-same (known h) n.names c n.role p y b ts us used k))

      at : (c : Change) (g : Goes) → After c g h.given (ledger w p x a) (ledger w' q x' a') → ListKept (known h) n.names c n.role ts us → Outcome (FieldKept p y b q y b) (ledger w o x a) (ledger w' o x' a')
      at above to_list e k = record { given = h.given; change = below; goes = to_list; more = h.more; freer = h.freer; range = h.range; fresh = h.fresh; sound = h.sound; beside = record { pending = refl; this = e.this; top = e.top }; kept = like (known h) below p (with_vars h.given p) q y y y b b b (sym e.pending) refl refl (as-statements (known h) n.names below n.role (whole_list p y b ts) (whole_list (with_vars h.given p) y b us) (whole-more (known h) n.names n.role p y b ts us used k)) }
      at above to_this e k = record { given = h.given; change = above; goes = to_this; more = h.more; freer = h.freer; range = h.range; fresh = h.fresh; sound = h.sound; beside = record { name = e.name; alone = e.alone; none_before = e.none_before; after = e.after; pending = refl; top = e.top }; kept = still above e.pending k }
      at below g e k = record { given = h.given; change = below; goes = g; more = h.more; freer = h.freer; range = h.range; fresh = h.fresh; sound = h.sound; beside = record { pending = refl; this = e.this; top = e.top }; kept = still below e.pending k }
      at lexed g e k = record { given = h.given; change = lexed; goes = g; more = h.more; freer = h.freer; range = h.range; fresh = h.fresh; sound = h.sound; beside = record { pending = refl; this = e.this; top = e.top }; kept = still lexed e.pending k }
      at sealed g e k = record { given = h.given; change = sealed; goes = g; more = h.more; freer = h.freer; range = h.range; fresh = h.fresh; sound = h.sound; beside = record { pending = refl; this = e.this; top = e.top }; kept = still sealed e.pending k }

  -- the list of a target, which may be the program's
  in-target : (x y y' : Option Bound) (a a' b b' c' d : Additions) → NamedAll w.in_use w.free_symbol n.role (whole_list p y b ts) → (a' ≡ a → (c' ≡ d) × (b' ≡ b)) → Outcome (ListsKept n ts us) (ledger w p y a) (ledger w' q y' a') → Outcome (FieldKept p y b q y' b') (ledger w o x d) (ledger w' o x c')
  in-target x y y' a a' b b' c' d used top h = at h.change h.goes h.beside h.kept
    where
      still : (c : Change) → q ≡ p → y' ≡ y → a' ≡ a → ListKept (known h) n.names c n.role ts us → FieldKept p y b q y' b' (known h) c
      still c e f g k = like (known h) c p p q y y y' b b b' (sym e) (sym f) (sym (top g).1) (as-statements (known h) n.names c n.role (whole_list p y b ts) (whole_list p y b us) (whole-same (known h) n.names c n.role p y b ts us used k))

      made : (c : Change) → FieldKept p y b q y' b' (known h) c → After c h.goes h.given (ledger w o x d) (ledger w' o x c') → Outcome (FieldKept p y b q y' b') (ledger w o x d) (ledger w' o x c')
      made c k g = record { given = h.given; change = c; goes = h.goes; more = h.more; freer = h.freer; range = h.range; fresh = h.fresh; sound = h.sound; beside = g; kept = k }

      at : (c : Change) (g : Goes) → After c g h.given (ledger w p y a) (ledger w' q y' a') → ListKept (known h) n.names c n.role ts us → Outcome (FieldKept p y b q y' b') (ledger w o x d) (ledger w' o x c')
      at above to_list e k = made below (like (known h) below p (with_vars h.given p) q y y y' b b b' (sym e.pending) (sym e.this) (sym (top e.top).1) (as-statements (known h) n.names below n.role (whole_list p y b ts) (whole_list (with_vars h.given p) y b us) (whole-more (known h) n.names n.role p y b ts us used k))) (record { pending = refl; this = refl; top = (top e.top).0 })
      at above to_this e k = made below (like (known h) below p p q y (Some e.name) y' b b b' (sym e.pending) (sym e.after) (sym (top e.top).1) (as-statements (known h) n.names below n.role (whole_list p y b ts) (whole_list p (Some e.name) b us) (new-this e.none_before))) (record { pending = refl; this = refl; top = (top e.top).0 })
        where
          new-this : y ≡ None → KeptAll (known h) n.names below n.role (whole_list p y b ts) (whole_list p (Some e.name) b us)
          new-this f = subst (λ (z : Option Bound). KeptAll (known h) n.names below n.role (whole_list p z b ts) (whole_list p (Some e.name) b us)) (sym f) (whole-this (known h) n.names n.role p e.name b ts us e.alone (subst (λ (z : Option Bound). NamedAll w.in_use w.free_symbol n.role (whole_list p z b ts)) f used) k)
      at below g e k = made below (still below e.pending e.this e.top k) (record { pending = refl; this = refl; top = (top e.top).0 })
      at lexed g e k = made lexed (still lexed e.pending e.this e.top k) (record { pending = refl; this = refl; top = (top e.top).0 })
      at sealed g e k = made sealed (still sealed e.pending e.this e.top k) (record { pending = refl; this = refl; top = (top e.top).0 })

-- and the body of an arrow
in-body : (n : Site) (w w' : Whole) (o p q : Pending) (x x' : Option Bound) (a a' : Additions) (t u : Tree) → IsExpression t → IsExpression u → Named w.in_use w.free_symbol reads (written_body p t) → Outcome (λ k c. Kept k (names_in_body n.names p.vars p.lets t) c reads t u) (ledger w p x a) (ledger w' q x' a') → Outcome (λ k c. KeptBy k n.names c reads (one (written_body p t)) (one (written_body q u))) (ledger w o x a) (ledger w' o x' a')
in-body n w w' o p q x x' a a' t u y y' used h = at h.change h.goes h.beside h.kept
  where
    to : (c : Change) (g : Goes) (q' : Pending) → q ≡ q' → KeptBy (known h) n.names c reads (one (written_body p t)) (one (written_body q' u)) → After c g h.given (ledger w o x a) (ledger w' o x' a') → Outcome (λ k c. KeptBy k n.names c reads (one (written_body p t)) (one (written_body q u))) (ledger w o x a) (ledger w' o x' a')
    to c g q' e k f = record { given = h.given; change = c; goes = g; more = h.more; freer = h.freer; range = h.range; fresh = h.fresh; sound = h.sound; beside = f; kept = subst (λ (q : Pending). KeptBy (known h) n.names c reads (one (written_body p t)) (one (written_body q u))) (sym e) k }

    still : (c : Change) → Kept (known h) (names_in_body n.names p.vars p.lets t) c reads t u → KeptBy (known h) n.names (body_change c) reads (one (written_body p t)) (one (written_body p u))
    still c k = as-one (known h) n.names (body_change c) reads (written_body p t) (written_body p u) (body-same (known h) n.names c p.vars p.lets t u y y' used k)

    at : (c : Change) (g : Goes) → After c g h.given (ledger w p x a) (ledger w' q x' a') → Kept (known h) (names_in_body n.names p.vars p.lets t) c reads t u → Outcome (λ k c. KeptBy k n.names c reads (one (written_body p t)) (one (written_body q u))) (ledger w o x a) (ledger w' o x' a')
    at above to_list e k = to sealed to_list (with_vars h.given p) e.pending (body-more (known h) n.names p.vars p.lets t u y y' used k) (record { pending = refl; this = e.this; top = e.top })
    at above to_this e k = to above to_this p e.pending (still above k) (record { name = e.name; alone = e.alone; none_before = e.none_before; after = e.after; pending = refl; top = e.top })
    at below g e k = to sealed g p e.pending (still below k) (record { pending = refl; this = e.this; top = e.top })
    at lexed g e k = to sealed g p e.pending (still lexed k) (record { pending = refl; this = e.this; top = e.top })
    at sealed g e k = to sealed g p e.pending (still sealed k) (record { pending = refl; this = e.this; top = e.top })

closing-after : (c : Change) (v out : Bool) (g : Goes) (given : List Bound) (s s' : Ledger) → After c g given s s' → After (closing c v out) g given s s'
closing-after above v out g given s s' h = h
closing-after below true out g given s s' h = h
closing-after below false out g given s s' h = h
closing-after lexed v true g given s s' h = h
closing-after lexed v false g given s s' h = h
closing-after sealed v out g given s s' h = h

-- a node whose fields took a step
in-node : (n : Site) (s s' : Ledger) (k : AstType) (l : Label) (fs gs : Fields) → Named (whole_in s).in_use (whole_in s).free_symbol n.role (node k l fs) → Outcome (λ m c. KeptIn m (place_in n.names k l (role_at n.role k l fs) fs) c (role_at n.role k l fs) fs gs) s s' → Outcome (NodesKept n (node k l fs) (node k l gs)) s s'
in-node n s s' k l fs gs used h = record {
  given = h.given;
  change = closing h.change (is_var_scope k) (reaches_out false k h.kept.spot);
  goes = h.goes;
  more = h.more;
  freer = h.freer;
  range = h.range;
  fresh = h.fresh;
  sound = h.sound;
  beside = closing-after h.change (is_var_scope k) (reaches_out false k h.kept.spot) h.goes h.given s s' h.beside;
  kept = kept-node (known h) n.names h.change n.role k l fs gs used.0 used.1 h.kept;
}

in-flanked : (m : Known) (n : Site) (c : Change) (bs cs : List Tree) (t u : Tree) (ts : Trees) → is_import u ≡ is_import t → NamedAll m.in_use m.free n.role (flanks_with bs t cs ts) → Kept m n.names c n.role t u → ListKept m n.names c n.role (flanks_with bs t cs ts) (flanks_with bs u cs ts)
in-flanked m n c bs cs t u ts alike used k =
    let parts = named-joined m.in_use m.free n.role (trees bs) (t before joined_trees (trees cs) ts) used in
    list-after m n.names n.role c (trees bs) (t before joined_trees (trees cs) ts) (u before joined_trees (trees cs) ts) parts.0 parts.1 (list-left m n.names n.role c t u (joined_trees (trees cs) ts) alike parts.1.0 parts.1.1 k)

after-flanked : (m : Known) (n : Site) (c : Change) (bs cs : List Tree) (t : Tree) (ts us : Trees) → NamedAll m.in_use m.free n.role (flanks_with bs t cs ts) → ListKept m n.names c n.role ts us → ListKept m n.names c n.role (flanks_with bs t cs ts) (flanks_with bs t cs us)
after-flanked m n c bs cs t ts us used k =
    let parts = named-joined m.in_use m.free n.role (trees bs) (t before joined_trees (trees cs) ts) used in
    let rest = named-joined m.in_use m.free n.role (trees cs) ts parts.1.1 in
    list-after m n.names n.role c (trees bs) (t before joined_trees (trees cs) ts) (t before joined_trees (trees cs) us) parts.0 parts.1 (list-right m n.names n.role c t (joined_trees (trees cs) ts) (joined_trees (trees cs) us) parts.1.0 parts.1.1 (list-after m n.names n.role c (trees cs) ts us rest.0 rest.1 k))

flanked-named : (u : Text → Bool) (f : ℕ) (r : Role) (bs cs : List Tree) (t : Tree) (ts : Trees) → NamedAll u f r (flanks_with bs t cs ts) → Named u f r t × NamedAll u f r ts
flanked-named u f r bs cs t ts h =
    let parts = named-joined u f r (trees bs) (t before joined_trees (trees cs) ts) h in
    (parts.1.0, (named-joined u f r (trees cs) ts parts.1.1).1)

-- NAMES OF SYMBOLS in parts of lists

pub called-joined : (f : ℕ → Text) (xs ts : Trees) → CalledAll f (joined_trees xs ts) → CalledAll f xs × CalledAll f ts
called-joined f empty ts h = (tt, h)
called-joined f (x before xs) ts h = let k = called-joined f xs ts h.1 in ((h.0, k.0), k.1)

called-after : (f : ℕ → Text) (bs ts : Trees) → CalledAll f (after_imports bs ts) → CalledAll f ts
called-after f bs empty h = tt
called-after f bs (t before ts) h = at (is_import t) (λ k. called-after f bs ts k) h
  where
    at : (v : Bool) → (CalledAll f (after_imports bs ts) → CalledAll f ts) → CalledAll f (if v then t before after_imports bs ts else joined_trees bs (t before ts)) → CalledAll f (t before ts)
    at true rest h = (h.0, rest h.1)
    at false rest h = (called-joined f bs (t before ts) h).1

flanked-called : (f : ℕ → Text) (bs cs : List Tree) (t : Tree) (ts : Trees) → CalledAll f (flanks_with bs t cs ts) → Called f t × CalledAll f ts
flanked-called f bs cs t ts h =
    let parts = called-joined f (trees bs) (t before joined_trees (trees cs) ts) h in
    (parts.1.0, (called-joined f (trees cs) ts parts.1.1).1)

declaration-called : (f : ℕ → Text) (kind : Text) (ds : List Tree) (ts : Trees) → CalledAll f (declaration kind ds ts) → CalledAll f ts
declaration-called f kind [] ts h = h
declaration-called f kind (d ∷ ds) ts h = h.1

pub body-called : (f : ℕ → Text) (vs ls : List Tree) (e : Tree) → Called f (body_with vs ls e) → Called f e
body-called f [] [] e h = h
body-called f [] (d ∷ ls) e h = h.1.1.0.1.0.1.0
body-called f (v ∷ vs) ls e h = (declaration-called f (codes "let") ls _ h.1.1.0.1).0.1.0

pub flanks-rest : (bs cs : List Tree) (t : Tree) (ts : Trees) → joined_trees (flanks_with bs t cs empty) ts ≡ flanks_with bs t cs ts
flanks-rest bs cs t ts = joined-twice (trees bs) (t before joined_trees (trees cs) empty) ts ∙ (λ i. joined_trees (trees bs) (t before joined-twice (trees cs) empty ts i))

module _ (R : Site → Ledger → Spot → Ledger → Spot → Type 0) (law : Lawful R) (writes : Writes R) where
  at-node : (n : Site) (s s' : Ledger) (t u : Tree) → R n s (at_node t) s' (at_node u) → Used (whole_in s) n.role (finished (opened t)) → Outcome (NodesKept n (finished (opened t)) (finished (opened u))) s s'
  at-node n s s' t u h used =
      subst (λ (a : Tree). Outcome (NodesKept n a (finished (opened u))) s s') (sym (finished-opened t))
      (subst (λ (z : Tree). Outcome (NodesKept n t z) s s') (sym (finished-opened u))
      (let parts = subst (λ (a : Tree). Used (whole_in s) n.role a) (finished-opened t) used in law.at_nodes n s s' t u h parts.0 parts.1))

  at-list : (n : Site) (s s' : Ledger) (p q : Pending) (x y : Option Bound) (a b : Additions) (ts us : Trees) → R n s (at_list p x a ts) s' (at_list q y b us) → NamedAll (whole_in s).in_use (whole_in s).free_symbol n.role (whole_list p x a (finished_trees (opened_trees ts))) → Outcome (λ k c. KeptBy k n.names c n.role (statements (whole_list p x a (finished_trees (opened_trees ts)))) (statements (whole_list q y b (finished_trees (opened_trees us))))) s s'
  at-list n s s' p q x y a b ts us h used =
      subst (λ (z : Trees). Outcome (λ k c. KeptBy k n.names c n.role (statements (whole_list p x a z)) (statements (whole_list q y b (finished_trees (opened_trees us))))) s s') (sym (finished-trees ts))
      (subst (λ (z : Trees). Outcome (λ k c. KeptBy k n.names c n.role (statements (whole_list p x a ts)) (statements (whole_list q y b z))) s s') (sym (finished-trees us))
      (let o = law.at_lists n s s' p q x y a b ts us h (subst (λ (z : Trees). NamedAll (whole_in s).in_use (whole_in s).free_symbol n.role (whole_list p x a z)) (finished-trees ts) used) in
      over o (as-statements (known o) n.names o.change n.role (whole_list p x a ts) (whole_list q y b us) o.kept)))

  -- a statement becomes some
  at-statement : (n : Site) (s s' : Ledger) (t u : Tree) (bs cs : List Tree) (ts : Trees) → R n s (at_node t) s' (at_beside bs u cs) → NamedAll (whole_in s).in_use (whole_in s).free_symbol n.role (finished (opened t) before ts) → Outcome (ListsKept n (finished (opened t) before ts) (flanks_with bs (finished (opened u)) cs ts)) s s'
  at-statement n s s' t u bs cs ts h used =
      subst (λ (z : Tree). Outcome (ListsKept n (z before ts) (flanks_with bs (finished (opened u)) cs ts)) s s') (sym (finished-opened t))
      (subst (λ (z : Tree). Outcome (ListsKept n (t before ts) (flanks_with bs z cs ts)) s s') (sym (finished-opened u))
      (subst (λ (z : Trees). Outcome (ListsKept n (t before ts) z) s s') (flanks-rest bs cs u ts)
      (let o = law.flanking n s s' t u bs cs h (subst (λ (a : Tree). Named (whole_in s).in_use (whole_in s).free_symbol n.role a) (finished-opened t) used.0) in
      let none = writes.flanks_none n s s' t u bs cs h in
      over o (list-several (known o) n.names n.role o.change t (flanks_with bs u cs empty) ts none.0 none.1 used.1 o.kept))))

  at-flanked : (n : Site) (s s' : Ledger) (t : Tree) (bs cs : List Tree) (us : Trees) (ts : OpenTrees) → R n s (at_beside bs t cs) s' (at_trees us) → NamedAll (whole_in s).in_use (whole_in s).free_symbol n.role (flanks_with bs (finished (opened t)) cs (finished_trees ts)) → Outcome (ListsKept n (flanks_with bs (finished (opened t)) cs (finished_trees ts)) (finished_trees (followed_by (opened_trees us) ts))) s s'
  at-flanked n s s' t bs cs us ts h used =
      let found = law.unflanking n s s' t bs cs us h in
      unchanged-list n s s' (flanks_with bs (finished (opened t)) cs (finished_trees ts)) (finished_trees (followed_by (opened_trees us) ts)) found.0
      ((λ i. flanks_with bs (finished-opened t i) cs (finished_trees ts)) ∙ sym (flanks-rest bs cs t (finished_trees ts)) ∙ (λ i. joined_trees (found.1 i) (finished_trees ts)) ∙ sym (finished-followed us ts)) used

  imports-kept : {n : Site} {s s' : Ledger} {t u : Open} → Step R n s t s' u → is_import (finished u) ≡ is_import (finished t)
  imports-kept (acts {n = n} {s = s} {s' = s'} t u h) = ap is_import (finished-opened u) ∙ writes.imports n s s' t u h ∙ sym (ap is_import (finished-opened t))
  imports-kept (inside h) = refl

  mutual
    pub taken : {n : Site} {s s' : Ledger} {t u : Open} → Step R n s t s' u → Used (whole_in s) n.role (finished t) → Outcome (NodesKept n (finished t) (finished u)) s s'
    taken (acts {n = n} {s = s} {s' = s'} t u h) used = at-node n s s' t u h used
    taken (inside {n = n} {s = s} {s' = s'} {k = k} {l = l} {fs = fs} {gs = gs} h) used = in-node n s s' k l (finished_fields fs) (finished_fields gs) used.0 (taken-in h (used.0.1, used.1.1))

    pub taken-in : {c : ℕ → Site} {s s' : Ledger} {fs gs : OpenFields} → FieldsStep R c s fs s' gs → UsedIn (whole_in s) (λ i. (c i).role) (finished_fields fs) → Outcome (λ k d. KeptIn k (λ i. (c i).names) d (λ i. (c i).role) (finished_fields fs) (finished_fields gs)) s s'
    taken-in (in_first {c = c} {s = s} {s' = s'} {f = f} {g = g} {fs = fs} h) used = let o = taken-by h (used.0.0, used.1.0) in over o (left-fields (known o) (λ i. (c i).names) o.change (λ i. (c i).role) (finished_field f) (finished_field g) (finished_fields fs) used.0.1 o.kept (same-in (plain (known o)) (λ i. (c (suc i)).names) (λ i. (c (suc i)).role) (finished_fields fs) used.0.1))
    taken-in (in_later {c = c} {s = s} {s' = s'} {f = f} {fs = fs} {gs = gs} h) used = let o = taken-in h (used.0.1, used.1.1) in over o (right-fields (known o) (λ i. (c i).names) o.change (λ i. (c i).role) (finished_field f) (finished_fields fs) (finished_fields gs) used.0.0 (same-by (plain (known o)) (c zero).names (c zero).role (finished_field f) used.0.0) o.kept)

    pub taken-by : {n : Site} {s s' : Ledger} {f g : OpenField} → FieldStep R n s f s' g → UsedBy (whole_in s) n.role (finished_field f) → Outcome (λ k c. KeptBy k n.names c n.role (finished_field f) (finished_field g)) s s'
    taken-by (in_child {n = n} {t = t} {u = u} h) used = let o = taken h used in over o (as-one (known o) n.names o.change n.role (finished t) (finished u) o.kept)
    taken-by (in_children {n = n} {ts = ts} {us = us} h) used = let o = taken-all h used in over o (as-many (known o) n.names o.change n.role (finished_trees ts) (finished_trees us) o.kept.bare)
    taken-by (in_body {n = n} {w = w} {w' = w'} {o = o} {p = p} {q = q} {x = x} {x' = x'} {a = a} {a' = a'} {t = t} {u = u} e y y' h) used =
        subst (λ (r : Role). Outcome (λ k c. KeptBy k n.names c r (one (written_body p (finished t))) (one (written_body q (finished u)))) (ledger w o x a) (ledger w' o x' a')) (sym e)
        (let used' : Named w.in_use w.free_symbol reads (written_body p (finished t)) = subst (λ (r : Role). Named w.in_use w.free_symbol r (written_body p (finished t))) e used.0 in
        in-body n w w' o p q x x' a a' (finished t) (finished u) y y' used' (taken h (body-named w.in_use w.free_symbol p.vars p.lets (finished t) used', body-called w.called p.vars p.lets (finished t) used.1)))
    taken-by (in_list {n = n} {w = w} {w' = w'} {o = o} {p = p} {q = q} {x = x} {x' = x'} {y = y} {a = a} {a' = a'} {b = b} {ts = ts} {us = us} d d2 h) used = in-list n w w' o p q (finished_trees ts) (finished_trees us) x x' y a a' b used.0 (taken-all h (whole-named w.in_use w.free_symbol n.role p y b (finished_trees ts) used.0, called-after w.called (pending_statements p y b) (finished_trees ts) used.1))
    taken-by (in_target {n = n} {w = w} {w' = w'} {o = o} {p = p} {q = q} {x = x} {y = y} {y' = y'} {a = a} {a' = a'} {b = b} {ts = ts} {us = us} e h) used = in-target n w w' o p q (finished_trees ts) (finished_trees us) x y y' a a' b b a' a used.0 (λ f. (f, refl)) (taken-all h (whole-named w.in_use w.free_symbol n.role p y b (finished_trees ts) used.0, called-after w.called (pending_statements p y b) (finished_trees ts) used.1))
    taken-by (in_program {n = n} {w = w} {w' = w'} {o = o} {p = p} {q = q} {x = x} {y = y} {y' = y'} {a = a} {b = b} {b' = b'} {ts = ts} {us = us} e h) used = in-target n w w' o p q (finished_trees ts) (finished_trees us) x y y' b b' b b' a a used.0 (λ f. (refl, f)) (taken-all h (whole-named w.in_use w.free_symbol n.role p y b (finished_trees ts) used.0, called-after w.called (pending_statements p y b) (finished_trees ts) used.1))
    taken-by (acts_on_body {n = n} {s = s} {s' = s'} {p = p} t u h) used =
        let found = law.at_bodies n s s' p t u h in
        unchanged-field n s s' (one (written_body p (finished (opened t)))) (one (finished (opened u))) found.0 (ap (λ a. one (written_body p a)) (finished-opened t) ∙ ap (λ a. one a) (found.1 ∙ sym (finished-opened u))) used.0
    taken-by (acts_on_list {n = n} {s = s} {s' = s'} {p = p} {q = q} {x = x} {y = y} {a = a} {b = b} ts us h) used = at-list n s s' p q x y a b ts us h used.0

    pub taken-all : {n : Site} {s s' : Ledger} {ts us : OpenTrees} → TreesStep R n s ts s' us → UsedAll (whole_in s) n.role (finished_trees ts) → Outcome (ListsKept n (finished_trees ts) (finished_trees us)) s s'
    taken-all (in_head {n = n} {t = t} {u = u} {ts = ts} h) used = let o = taken h (used.0.0, used.1.0) in over o (list-left (known o) n.names n.role o.change (finished t) (finished u) (finished_trees ts) (imports-kept h) used.0.0 used.0.1 o.kept)
    taken-all (in_tail {n = n} {t = t} {ts = ts} {us = us} h) used = let o = taken-all h (used.0.1, used.1.1) in over o (list-right (known o) n.names n.role o.change (finished t) (finished_trees ts) (finished_trees us) used.0.0 used.0.1 o.kept)
    taken-all (in_flanked {n = n} {s = s} {bs = bs} {cs = cs} {t = t} {u = u} {ts = ts} h) used = let o = taken h ((flanked-named (whole_in s).in_use (whole_in s).free_symbol n.role bs cs (finished t) (finished_trees ts) used.0).0, (flanked-called (whole_in s).called bs cs (finished t) (finished_trees ts) used.1).0) in over o (in-flanked (known o) n o.change bs cs (finished t) (finished u) (finished_trees ts) (imports-kept h) used.0 o.kept)
    taken-all (after_flanked {n = n} {s = s} {bs = bs} {cs = cs} {t = t} {ts = ts} {us = us} h) used = let o = taken-all h ((flanked-named (whole_in s).in_use (whole_in s).free_symbol n.role bs cs (finished t) (finished_trees ts) used.0).1, (flanked-called (whole_in s).called bs cs (finished t) (finished_trees ts) used.1).1) in over o (after-flanked (known o) n o.change bs cs (finished t) (finished_trees ts) (finished_trees us) used.0 o.kept)
    taken-all (flanks {n = n} {s = s} {s' = s'} {bs = bs} {cs = cs} {ts = ts} t u h) used = at-statement n s s' t u bs cs (finished_trees ts) h used.0
    taken-all (acts_on_flanked {n = n} {s = s} {s' = s'} {bs = bs} {cs = cs} {ts = ts} t us h) used = at-flanked n s s' t bs cs us ts h used.0
