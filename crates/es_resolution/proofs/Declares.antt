-- Whether a tree declares a name around it, as a test.
use Rattle.std.proofs.Common.{◌≡◌, ℕ, zero, suc, refl, ap, ◌∙◌, List, [], ◌∷◌, ◌++◌}
use Rattle.std.specs.Prelude.{Bool, true, false, ◌||◌, ◌&&◌, Option, Some, None, is_some, bytes_eq, if◌then◌else◌}
use Rattle.es_tree.specs.Words.{Text}
use Rattle.es_tree.specs.Names.{first_text}
use Rattle.es_tree.specs.Tree.{Tree, node, Label, Fields, done, ◌then◌, Field, missing, one, many, statements, Trees, empty, ◌before◌}
use Rattle.es_tree.specs.declared.ast_type.AstType.{AstType}
use Rattle.es_tree.specs.declared.ast_type.AstType.TheVariants.{Identifier}
use Rattle.es_semantic.specs.RolesOf.{role_at}
use Rattle.es_semantic.specs.declared.place.Role.{Role}
use Rattle.es_resolution.specs.Declarations.{Bound, sought, symbol_of, is_asked, own_declared, reaches_out, declared, declared_in, declared_by, declared_among}
use Rattle.es_resolution.specs.Resolved.{bound_by}
use Rattle.es_resolution.proofs.Basics.{either_of, sought-append}
use Rattle.es_resolution.proofs.OtherRoles.{IsOther, role-other}
use Rattle.es_resolution.proofs.Placed.{is_last, is_name_first, name_fits, Placed, PlacedIn, PlacedBy, PlacedAll}
use Rattle.es_resolution.specs.Declarations.{has_scope, is_lexical, is_var_scope}
use Rattle.std.proofs.Common.{sym}
use Rattle.std.specs.Prelude.{not}
use Rattle.es_tree.specs.declared.ast_type.AstType.TheVariants.{FunctionExpression}
use Rattle.es_semantic.specs.Places.{is_inside}
use Rattle.es_semantic.specs.SymbolsOf.{hoists}
use Rattle.es_semantic.specs.declared.place.Binding.{Binding}
use Rattle.es_semantic.specs.declared.place.Binding.TheVariants.{FunctionName}
use Rattle.es_semantic.specs.declared.place.Role.TheVariants.{Binds}

-- WHAT THE TABLE BINDS: the name of a function expression is bound there as other names are, and it stays in the expression

abbrev pub is_declared : Bool → Role → Bool
is_declared v (Binds b) = if v then hoists b else not (hoists b)
is_declared v _ = false

abbrev pub goes_out : Bool → AstType → ℕ → Bool
goes_out true k i = not (is_var_scope k)
goes_out false FunctionExpression i = false
goes_out false k i = not (has_scope k && is_inside k i)

abbrev pub own_declares : Text → Bool → Role → AstType → Label → Bool
own_declares x v r Identifier l = is_declared v r && bytes_eq (first_text l.texts) x
own_declares x v r _ l = false

abbrev mutual
  pub declares : Text → Bool → Role → Tree → Bool
  declares x v r (node k l fs) = own_declares x v r k l || declares_in x v (goes_out v k) (role_at r k l fs) fs

  pub declares_in : Text → Bool → (ℕ → Bool) → (ℕ → Role) → Fields → Bool
  declares_in x v counts roles done = false
  declares_in x v counts roles (f then fs) = (counts zero && declares_by x v (roles zero) f) || declares_in x v (λ i. counts (suc i)) (λ i. roles (suc i)) fs

  pub declares_by : Text → Bool → Role → Field → Bool
  declares_by x v r missing = false
  declares_by x v r (one t) = declares x v r t
  declares_by x v r (many ts) = declares_among x v r ts
  declares_by x v r (statements ts) = declares_among x v r ts

  pub declares_among : Text → Bool → Role → Trees → Bool
  declares_among x v r empty = false
  declares_among x v r (t before ts) = declares x v r t || declares_among x v r ts

pub counts-none : (x : Text) (v : Bool) (counts : ℕ → Bool) (roles : ℕ → Role) (fs : Fields) → ((i : ℕ) → counts i ≡ false) → declares_in x v counts roles fs ≡ false
counts-none x v counts roles done e = refl
counts-none x v counts roles (f then fs) e = rw (e zero) (counts-none x v (λ i. counts (suc i)) (λ i. roles (suc i)) fs (λ i. e (suc i)))

pub declared-none : (v : Bool) (roles : ℕ → Role) (fs : Fields) → declared_in v (λ i. false) roles fs ≡ []
declared-none v roles done = refl
declared-none v roles (f then fs) = declared-none v (λ i. roles (suc i)) fs

some-either : (a b : Option (Option ℕ)) → is_some (either_of a b) ≡ (is_some a || is_some b)
some-either None b = refl
some-either (Some a) b = refl

pub bound-append : (bs cs : List Bound) (x : Text) → bound_by (bs ++ cs) x ≡ (bound_by bs x || bound_by cs x)
bound-append bs cs x = ap is_some (sought-append bs cs x) ∙ some-either (sought bs x) (sought cs x)

pub bound-both : (bs cs : List Bound) (x : Text) (a b : Bool) → bound_by bs x ≡ a → bound_by cs x ≡ b → bound_by (bs ++ cs) x ≡ (a || b)
bound-both bs cs x a b e d = bound-append bs cs x ∙ (λ i. e i || d i)

own-if : (c : Bool) (b : Bound) (x : Text) → bound_by (if c then b ∷ [] else []) x ≡ (c && bytes_eq b.name x)
own-if true b x = at (bytes_eq b.name x) where
  at : (d : Bool) → is_some (if d then Some b.symbol else None) ≡ d
  at true = refl
  at false = refl
own-if false b x = refl

-- WHAT A TREE DECLARES WITHOUT ITS SYMBOLS: the same names

same-asked : (v : Bool) (r : Role) → IsOther v r → is_asked v r ≡ is_declared v r
same-asked true r o = same-var r
  where
    same-var : (r : Role) → is_asked true r ≡ is_declared true r
    same-var (Binds b) = refl
    same-var _ = refl
same-asked false (Binds b) o = same-binding b o
  where
    same-binding : (b : Binding) → IsOther false (Binds b) → is_lexical b ≡ not (hoists b)
    same-binding FunctionName o = absurd o
    same-binding _ o = refl
same-asked false _ o = refl

own-bound : (x : Text) (v : Bool) (r : Role) (k : AstType) (l : Label) → IsOther v r → bound_by (own_declared v r k l) x ≡ own_declares x v r k l
own-bound x v r Identifier l o = own-if (is_asked v r) (record { name = first_text l.texts; symbol = symbol_of l }) x ∙ ap (λ c. c && bytes_eq (first_text l.texts) x) (same-asked v r o)
own-bound x v r _ l o = refl

if-bound : (c : Bool) (bs : List Bound) (x : Text) (a : Bool) → (c ≡ true → bound_by bs x ≡ a) → bound_by (if c then bs else []) x ≡ (c && a)
if-bound true bs x a e = e refl
if-bound false bs x a e = refl

-- the name of a function expression isn't declared around it
name-bound : (x : Text) (r : Role) (l : Label) (fs : Fields) → is_name_first fs ≡ true → bound_by (declared_in false (reaches_out false FunctionExpression) (role_at r FunctionExpression l fs) fs) x ≡ false
name-bound x r l (missing then fs) e = ap (λ bs. bound_by bs x) (declared-none false (λ i. role_at r FunctionExpression l (missing then fs) (suc i)) fs)
name-bound x r l (one (node Identifier c done) then fs) e = ap (λ bs. bound_by bs x) (declared-none false (λ i. role_at r FunctionExpression l (one (node Identifier c done) then fs) (suc i)) fs)
name-bound x r l fs e = absurd (cc e)

-- the fields of a node, where those of them that other names reach out of declare alike
node-bound : (x : Text) (v : Bool) (r : Role) (k : AstType) (l : Label) (fs : Fields) → IsOther v r → name_fits k fs ≡ true →
    (((i : ℕ) → reaches_out v k i ≡ true → IsOther v (role_at r k l fs i)) → bound_by (declared_in v (reaches_out v k) (role_at r k l fs) fs) x ≡ declares_in x v (reaches_out v k) (role_at r k l fs) fs) →
    bound_by (declared_in v (reaches_out v k) (role_at r k l fs) fs) x ≡ declares_in x v (goes_out v k) (role_at r k l fs) fs
node-bound x true r k l fs o e h = h (λ i c. tt)
node-bound x false r FunctionExpression l fs o e h = name-bound x r l fs e ∙ sym (counts-none x false (λ i. false) (role_at r FunctionExpression l fs) fs (λ i. refl))
node-bound x false r k l fs o e h = h (λ i c. role-other false r k l fs i o refl)

mutual
  pub bound-tree : (x : Text) (v : Bool) (above : AstType) (last : Bool) (r : Role) (t : Tree) → IsOther v r → Placed above last t → bound_by (declared v r t) x ≡ declares x v r t
  bound-tree x v above last r (node k l fs) o d = bound-both (own_declared v r k l) (declared_in v (reaches_out v k) (role_at r k l fs) fs) x (own_declares x v r k l) (declares_in x v (goes_out v k) (role_at r k l fs) fs) (own-bound x v r k l o) (node-bound x v r k l fs o d.1 (bound-in x v k (reaches_out v k) (role_at r k l fs) fs d.2))

  pub bound-in : (x : Text) (v : Bool) (k : AstType) (counts : ℕ → Bool) (roles : ℕ → Role) (fs : Fields) → PlacedIn k fs → ((i : ℕ) → counts i ≡ true → IsOther v (roles i)) → bound_by (declared_in v counts roles fs) x ≡ declares_in x v counts roles fs
  bound-in x v k counts roles done d o = refl
  bound-in x v k counts roles (f then fs) d o =
      bound-both (if counts zero then declared_by v (roles zero) f else []) (declared_in v (λ i. counts (suc i)) (λ i. roles (suc i)) fs) x (counts zero && declares_by x v (roles zero) f) (declares_in x v (λ i. counts (suc i)) (λ i. roles (suc i)) fs)
      (if-bound (counts zero) (declared_by v (roles zero) f) x (declares_by x v (roles zero) f) (λ c. bound-by x v k (is_last fs) (roles zero) f (o zero c) d.0)) (bound-in x v k (λ i. counts (suc i)) (λ i. roles (suc i)) fs d.1 (λ i. o (suc i)))

  bound-by : (x : Text) (v : Bool) (k : AstType) (last : Bool) (r : Role) (f : Field) → IsOther v r → PlacedBy k last f → bound_by (declared_by v r f) x ≡ declares_by x v r f
  bound-by x v k last r missing o d = refl
  bound-by x v k last r (one t) o d = bound-tree x v k last r t o d
  bound-by x v k last r (many ts) o d = bound-among x v k r ts o d
  bound-by x v k last r (statements ts) o d = bound-among x v k r ts o d

  bound-among : (x : Text) (v : Bool) (k : AstType) (r : Role) (ts : Trees) → IsOther v r → PlacedAll k ts → bound_by (declared_among v r ts) x ≡ declares_among x v r ts
  bound-among x v k r empty o d = refl
  bound-among x v k r (t before ts) o d = bound-both (declared v r t) (declared_among v r ts) x (declares x v r t) (declares_among x v r ts) (bound-tree x v k false r t o d.0) (bound-among x v k r ts o d.1)
