-- What a step keeps of a tree: what it declares, which of its names are in use, and that it is resolved.
use Rattle.std.proofs.Common.{◌≤◌, ◌<◌, ◌≡◌, ℕ, List, []}
use Rattle.std.specs.Prelude.{Bool, true, false, Option, Some, None, is_some, if◌then◌else◌}
use Rattle.es_tree.specs.Words.{Text}
use Rattle.es_tree.specs.Tree.{Tree, Fields, Field, Trees, kind_of}
use Rattle.es_tree.specs.Children.{child_at, only_child}
use Rattle.es_semantic.specs.declared.place.Role.{Role}
use Rattle.es_resolution.specs.Declarations.{Bound, sought, is_var_scope, declared, declared_in, declared_by, declared_among}
use Rattle.std.specs.List.{list_any}
use Rattle.es_resolution.specs.Single.{binds, scopes_with, scopes_in, scopes_by, scopes_among}
use Rattle.es_resolution.specs.Resolved.{own_of, own_by, first_declared, Place, Resolved, ResolvedIn, ResolvedBy, ResolvedAll}
use Rattle.es_resolution.specs.Named.{Named, NamedIn, NamedBy, NamedAll}
pub use Rattle.es_resolution.proofs.Basics.{Each, every}

-- where the new names are declared: above the tree; in it by `var`, or in another way, with the scope above it; or in a scope
-- of the tree
pub data Change : Type 0 where
  above : Change
  below : Change
  lexed : Change
  sealed : Change

abbrev pub IsNew : ℕ → ℕ → Option ℕ → Type 0
IsNew f g None = ⊥
IsNew f g (Some s) = (f ≤ s) × (s < g)

-- what a step knows: the names in use before and after, and the names that are new
pub record Known : Type 0 where
  pub in_use : Text → Bool
  pub in_use_after : Text → Bool
  pub given : List Bound
  pub free : ℕ
  pub free_after : ℕ
  pub more : (y : Text) → in_use y ≡ true → in_use_after y ≡ true
  pub freer : free ≤ free_after
  pub range : Each (λ b. IsNew free free_after b.symbol) given
  pub fresh : (y : Text) (o : Option ℕ) → sought given y ≡ Some o → in_use y ≡ false
  pub sound : Each (λ b. (sought given b.name ≡ Some b.symbol) × (is_some b.symbol ≡ true) × (in_use_after b.name ≡ true)) given

-- the same without new names
abbrev pub plain : Known → Known
plain n = record { in_use = n.in_use; in_use_after = n.in_use_after; given = []; free = n.free; free_after = n.free_after; more = n.more; freer = n.freer; range = tt; fresh = λ y o e. absurd (cc e); sound = tt }

-- the same for each name in use
abbrev pub AgreeOn : Known → (Text → Option ℕ) → (Text → Option ℕ) → Type 0
AgreeOn n f g = (y : Text) → n.in_use y ≡ true → g y ≡ f y

pub record Agree (n : Known) (p q : Place) : Type 0 where
  pub scope : AgreeOn n p.scope q.scope
  pub hoist : AgreeOn n p.hoist q.hoist

pub record SameParameters (c : Change) (n : Known) (p q : Place) : Type 0 where
  pub used : (y : Text) → n.in_use y ≡ true → q.parameters y ≡ p.parameters y
  pub new : (c ≡ lexed → ⊥) → (y : Text) (o : Option ℕ) → sought n.given y ≡ Some o → q.parameters y ≡ false

-- the new names are seen, with their symbols
abbrev pub SeesOn : Known → (Text → Option ℕ) → Type 0
SeesOn n f = (y : Text) (o : Option ℕ) → sought n.given y ≡ Some o → f y ≡ o

pub record Sees (n : Known) (q : Place) : Type 0 where
  pub scope : SeesOn n q.scope
  pub hoist : SeesOn n q.hoist

abbrev pub SeesIf : Change → Known → Place → Type 0
SeesIf above n q = Sees n q
SeesIf below n q = Sees n q
SeesIf lexed n q = SeesOn n q.scope
SeesIf sealed n q = Unit {0}

-- for the fields of a node, where the change is in the field of this number
abbrev pub SeesIn : Change → Known → ℕ → (ℕ → Place) → Type 0
SeesIn above n i qs = (j : ℕ) → Sees n (qs j)
SeesIn below n i qs = (j : ℕ) → Sees n (qs j)
SeesIn lexed n i qs = SeesOn n (qs i).scope
SeesIn sealed n i qs = Unit {0}

pub record Adds (n : Known) (bs cs : List Bound) : Type 0 where
  pub used : (y : Text) → n.in_use y ≡ true → sought cs y ≡ sought bs y
  pub new : (y : Text) (o : Option ℕ) → sought n.given y ≡ Some o → sought cs y ≡ Some o
  pub others : (q : Bound → Bool) → Each (λ b. q b ≡ false) n.given → list_any q cs ≡ list_any q bs

-- how many scopes of what stands here afterwards bind a new name, at the most
abbrev pub few : Change → ℕ
few above = 0
few below = 0
few lexed = 0
few sealed = 1

-- and a new symbol, which may be that of no new name
abbrev pub limit : Change → Known → ℕ → ℕ
limit c n s = if binds s n.given then few c else 1

-- what is declared by `var`, and in another way
abbrev pub Hoisted : Change → Known → List Bound → List Bound → Type 0
Hoisted above n bs cs = cs ≡ bs
Hoisted below n bs cs = Adds n bs cs
Hoisted lexed n bs cs = cs ≡ bs
Hoisted sealed n bs cs = cs ≡ bs

abbrev pub Lexical : Change → Known → List Bound → List Bound → Type 0
Lexical above n bs cs = cs ≡ bs
Lexical below n bs cs = cs ≡ bs
Lexical lexed n bs cs = Adds n bs cs
Lexical sealed n bs cs = cs ≡ bs

-- of some fields, where the one that changes is among them or not
abbrev pub LexicalIn : Change → Known → Bool → List Bound → List Bound → Type 0
LexicalIn above n b bs cs = cs ≡ bs
LexicalIn below n b bs cs = cs ≡ bs
LexicalIn lexed n true bs cs = Adds n bs cs
LexicalIn lexed n false bs cs = cs ≡ bs
LexicalIn sealed n b bs cs = cs ≡ bs

-- a place where names refer to what a rule was told
pub record Looks (v : Bool) (b p : Place) : Type 0 where
  pub scope : p.scope ≡ b.scope
  pub parameters : v ≡ true → p.parameters ≡ b.parameters

pub record Kept (n : Known) (b : Place) (c : Change) (r : Role) (t u : Tree) : Type 0 where
  pub kind : is_var_scope (kind_of u) ≡ is_var_scope (kind_of t)
  pub top : is_var_scope (kind_of t) ≡ true → (c ≡ below → ⊥) × (c ≡ lexed → ⊥)
  pub own : own_of r u ≡ own_of r t
  pub lexical : Lexical c n (declared false r t) (declared false r u)
  pub hoisted : Hoisted c n (declared true r t) (declared true r u)
  pub named : Named n.in_use_after n.free_after r u
  pub scopes : (s : ℕ) (ps : Text → Bool) → s < n.free → scopes_with s ps r u ≡ scopes_with s ps r t
  pub new_scopes : (s : ℕ) (ps : Text → Bool) → n.free ≤ s → scopes_with s ps r u ≤ limit c n s
  pub resolved : (p q : Place) → Agree n p q → (is_var_scope (kind_of t) ≡ true → SameParameters c n p q) → SeesIf c n q → Looks (is_var_scope (kind_of t)) b p → Resolved r p t → Resolved r q u

-- of fields, where the one of this number changes
pub record KeptIn (n : Known) (bs : ℕ → Place) (c : Change) (roles : ℕ → Role) (fs gs : Fields) : Type 0 where
  pub spot : ℕ
  pub shape : (i : ℕ) → is_some (child_at i gs) ≡ is_some (child_at i fs)
  pub own : first_declared roles gs ≡ first_declared roles fs
  pub lexical : (counts : ℕ → Bool) → LexicalIn c n (counts spot) (declared_in false counts roles fs) (declared_in false counts roles gs)
  pub hoisted : Hoisted c n (declared_in true every roles fs) (declared_in true every roles gs)
  pub named : NamedIn n.in_use_after n.free_after roles gs
  pub scopes : (s : ℕ) (ps : Text → Bool) → s < n.free → scopes_in s ps roles gs ≡ scopes_in s ps roles fs
  pub new_scopes : (s : ℕ) (ps : Text → Bool) → n.free ≤ s → scopes_in s ps roles gs ≤ limit c n s
  pub resolved : (ps qs : ℕ → Place) → ((i : ℕ) → Agree n (ps i) (qs i)) → ((i : ℕ) → SameParameters c n (ps i) (qs i)) → SeesIn c n spot qs → ((i : ℕ) → Looks true (bs i) (ps i)) → ResolvedIn roles ps fs → ResolvedIn roles qs gs

pub record KeptBy (n : Known) (b : Place) (c : Change) (r : Role) (f g : Field) : Type 0 where
  pub shape : is_some (only_child g) ≡ is_some (only_child f)
  pub own : own_by r g ≡ own_by r f
  pub lexical : Lexical c n (declared_by false r f) (declared_by false r g)
  pub hoisted : Hoisted c n (declared_by true r f) (declared_by true r g)
  pub named : NamedBy n.in_use_after n.free_after r g
  pub scopes : (s : ℕ) (ps : Text → Bool) → s < n.free → scopes_by s ps r g ≡ scopes_by s ps r f
  pub new_scopes : (s : ℕ) (ps : Text → Bool) → n.free ≤ s → scopes_by s ps r g ≤ limit c n s
  pub resolved : (p q : Place) → Agree n p q → SameParameters c n p q → SeesIf c n q → Looks true b p → ResolvedBy r p f → ResolvedBy r q g

pub record KeptAll (n : Known) (b : Place) (c : Change) (r : Role) (ts us : Trees) : Type 0 where
  pub lexical : Lexical c n (declared_among false r ts) (declared_among false r us)
  pub hoisted : Hoisted c n (declared_among true r ts) (declared_among true r us)
  pub named : NamedAll n.in_use_after n.free_after r us
  pub scopes : (s : ℕ) (ps : Text → Bool) → s < n.free → scopes_among s ps r us ≡ scopes_among s ps r ts
  pub new_scopes : (s : ℕ) (ps : Text → Bool) → n.free ≤ s → scopes_among s ps r us ≤ limit c n s
  pub resolved : (p q : Place) → Agree n p q → SameParameters c n p q → SeesIf c n q → Looks true b p → ResolvedAll r p ts → ResolvedAll r q us
