-- What form and two static rules say of each node of a program: it has form, no declaration is the body of an `if`, a loop or a label
-- (ECMA-262, 14), and no import or export stands deeper than in the program itself (16.2).
use Rattle.std.proofs.Common.{◌≡◌, ℕ, suc, refl, [], ◌∷◌}
use Rattle.std.specs.Prelude.{◌==◌, List, Bool, true, false, ◌&&◌, not}
use Rattle.es_tree.specs.Ancestors.{Ancestor, ancestor, is_module}
use Rattle.es_tree.specs.HasForm.{has_form, same_type}
use Rattle.es_tree.specs.StaticRules.{is_declaration, is_lone_body, is_module_item}
use Rattle.es_tree.specs.Tree.{Tree, node, Label, Fields, done, ◌then◌, Field, missing, one, many, statements, Trees, empty, ◌before◌, kind_of, label_of}
use Rattle.es_tree.specs.declared.ast_type.AstType.{AstType}
use Rattle.es_tree.specs.declared.ast_type.AstType.TheVariants.{Program}
use Rattle.es_tree.specs.declared.table.Sort.{Sort}
use Rattle.es_tree.proofs.NodeForm.{has_form-node}
use Rattle.es_resolution.proofs.AllForms.{All, AllAmong, AllBy, AllIn, all-tree}
use Rattle.es_steps.specs.Nodes.{made}
use Rattle.es_valid_steps.specs.PlaceRules.{Keeps, KeepsAll, KeepsBy, KeepsHere, KeepsIn}

-- whether what stands in this field of a node is a body by itself
abbrev pub is_lone : AstType → ℕ → Bool
is_lone k i = is_lone_body (ancestor k (made [] []) done i 0 ∷ [])

-- what stands in this field of a node of this kind
pub record SettledAt (k : AstType) (i : ℕ) (t : Tree) : Type 0 where
  pub body : (is_declaration (kind_of t) (label_of t) && is_lone k i) ≡ false
  pub item : (is_module_item (kind_of t) && not (same_type k Program)) ≡ false

abbrev pub SettledAll : AstType → ℕ → Trees → Type 0
SettledAll k i empty = Unit {0}
SettledAll k i (t before ts) = SettledAt k i t × SettledAll k i ts

abbrev pub SettledBy : AstType → ℕ → Field → Type 0
SettledBy k i missing = Unit {0}
SettledBy k i (one t) = SettledAt k i t
SettledBy k i (many ts) = SettledAll k i ts
SettledBy k i (statements ts) = SettledAll k i ts

-- the fields from the i-th on
abbrev pub SettledIn : AstType → ℕ → Fields → Type 0
SettledIn k i done = Unit {0}
SettledIn k i (f then fs) = SettledBy k i f × SettledIn k (suc i) fs

pub record Formed (k : AstType) (l : Label) (fs : Fields) : Type 0 where
  pub sort : Sort
  pub form : has_form sort (node k l fs) ≡ true

pub record Sound (k : AstType) (l : Label) (fs : Fields) : Type 0 where
  pub sort : Sort
  pub form : has_form sort (node k l fs) ≡ true
  pub settled : SettledIn k 0 fs

-- FROM THE RULES

-- an item that stands at the top of a module stands in a program
module-item : (a p q m : Bool) → (a && not ((p && q) && m)) ≡ false → (a && not p) ≡ false
module-item true true q m e = refl
module-item true false q m e = e
module-item false p q m e = refl

keeps-here : (up : List Ancestor) (t : Tree) → Keeps up t → KeepsHere up t
keeps-here up (node k l fs) h = h.0

at-field : (up : List Ancestor) (k : AstType) (l : Label) (all : Fields) (i : ℕ) (t : Tree) → Keeps (ancestor k l all i 0 ∷ up) t → SettledAt k i t
at-field up k l all i t h =
    let here = keeps-here (ancestor k l all i 0 ∷ up) t h in
    record { body = here.declaration; item = module-item (is_module_item (kind_of t)) (same_type k Program) (i == 1) (is_module (ancestor k l all i 0 ∷ up)) here.item }

all-field : (up : List Ancestor) (k : AstType) (l : Label) (all : Fields) (i : ℕ) (ts : Trees) → KeepsAll (ancestor k l all i 0 ∷ up) ts → SettledAll k i ts
all-field up k l all i empty h = tt
all-field up k l all i (t before ts) h = (at-field up k l all i t h.0, all-field up k l all i ts h.1)

by-field : (up : List Ancestor) (k : AstType) (l : Label) (all : Fields) (i : ℕ) (f : Field) → KeepsBy (ancestor k l all i 0 ∷ up) f → SettledBy k i f
by-field up k l all i missing h = tt
by-field up k l all i (one t) h = at-field up k l all i t h
by-field up k l all i (many ts) h = all-field up k l all i ts h
by-field up k l all i (statements ts) h = all-field up k l all i ts h

in-fields : (up : List Ancestor) (k : AstType) (l : Label) (all : Fields) (i : ℕ) (fs : Fields) → KeepsIn up k l all i fs → SettledIn k i fs
in-fields up k l all i done h = tt
in-fields up k l all i (f then fs) h = (by-field up k l all i f h.0, in-fields up k l all (suc i) fs h.1)

mutual
  sound-tree : (up : List Ancestor) (t : Tree) → All Formed t → Keeps up t → All Sound t
  sound-tree up (node k l fs) f h = (record { sort = f.0.sort; form = f.0.form; settled = in-fields up k l fs 0 fs h.1 }, sound-in up k l fs 0 fs f.1 h.1)

  sound-in : (up : List Ancestor) (k : AstType) (l : Label) (all : Fields) (i : ℕ) (fs : Fields) → AllIn Formed fs → KeepsIn up k l all i fs → AllIn Sound fs
  sound-in up k l all i done f h = tt
  sound-in up k l all i (g then fs) f h = (sound-by (ancestor k l all i 0 ∷ up) g f.0 h.0, sound-in up k l all (suc i) fs f.1 h.1)

  sound-by : (up : List Ancestor) (g : Field) → AllBy Formed g → KeepsBy up g → AllBy Sound g
  sound-by up missing f h = tt
  sound-by up (one t) f h = sound-tree up t f h
  sound-by up (many ts) f h = sound-all up ts f h
  sound-by up (statements ts) f h = sound-all up ts f h

  sound-all : (up : List Ancestor) (ts : Trees) → AllAmong Formed ts → KeepsAll up ts → AllAmong Sound ts
  sound-all up empty f h = tt
  sound-all up (t before ts) f h = (sound-tree up t f.0 h.0, sound-all up ts f.1 h.1)

pub all-sound : (s : Sort) (t : Tree) → has_form s t ≡ true → Keeps [] t → All Sound t
all-sound s t f h = sound-tree [] t (all-tree Formed (λ q k l fs form. record { sort = q; form = has_form-node q k l fs form }) s t f) h
