-- Symbols that are not in use are bound by no scope.
use Rattle.std.proofs.Common.{arith, ◌≤◌, ◌≡◌, ℕ, zero, suc, ◌+◌, refl, ap, sym, ◌∙◌, List, [], ◌∷◌, ◌++◌}
use Rattle.std.specs.Prelude.{Bool, true, false, not, ◌&&◌, ◌||◌, Option, Some, None, map, if◌then◌else◌}
use Rattle.std.specs.List.{list_any}
use Rattle.std.proofs.lemmas.Bool.{ne_eqb}
use Rattle.std.proofs.lemmas.List.Folds.{list_any-append}
use Rattle.es_tree.specs.Words.{Text}
use Rattle.es_tree.specs.Names.{first_text}
use Rattle.es_tree.specs.References.{is_symbol}
use Rattle.es_tree.specs.Tree.{Tree, node, Label, Fields, done, ◌then◌, Field, missing, one, many, statements, Trees, empty, ◌before◌}
use Rattle.es_tree.specs.declared.ast_type.AstType.{AstType}
use Rattle.es_tree.specs.declared.ast_type.AstType.TheVariants.{Identifier, FunctionExpression, ClassDeclaration, ClassExpression}
use Rattle.es_semantic.specs.RolesOf.{role_at}
use Rattle.es_semantic.specs.Places.{is_inside}
use Rattle.es_semantic.specs.declared.place.Role.{Role}
use Rattle.es_semantic.specs.declared.place.Role.TheVariants.{Binds}
use Rattle.es_resolution.specs.Declarations.{Bound, symbol_of, is_asked, own_name, own_declared, has_scope, is_var_scope, reaches_out, declared, declared_in, declared_by, declared_among}
use Rattle.es_resolution.specs.Resolved.{first_declared, name_frame, with_symbol, class_frame, frame, var_frame, parameters_in}
use Rattle.es_resolution.specs.Named.{OwnUsed, IsBelow, Named, NamedIn, NamedBy, NamedAll}
use Rattle.es_resolution.specs.Single.{is_it, binds, is_var_of, own_binds, one_if, scopes_with, scopes_in, scopes_by, scopes_among}

pub other_symbol : (f s : ℕ) → f ≤ s → (o : Option ℕ) → IsBelow f o → is_symbol s o ≡ false
other_symbol f s e None h = refl
other_symbol f s e (Some m) h = ne_eqb m s (λ d. omega arith)

pub any-none : (q : Bound → Bool) (bs cs : List Bound) → list_any q bs ≡ false → list_any q cs ≡ false → list_any q (bs ++ cs) ≡ false
any-none q bs cs e d = list_any-append q bs cs ∙ (λ i. e i || d i)

module _ (u : Text → Bool) (f : ℕ) (q : Bound → Bool) (out : (b : Bound) → IsBelow f b.symbol → q b ≡ false) where
  own-if : (b : Bool) (x : Text) (s : Option ℕ) → IsBelow f s → list_any q (if b then record { name = x; symbol = s } ∷ [] else []) ≡ false
  own-if true x s h = rw (out (record { name = x; symbol = s }) h)
  own-if false x s h = refl

  own-any : (v : Bool) (r : Role) (k : AstType) (l : Label) → IsBelow f (symbol_of l) → list_any q (own_declared v r k l) ≡ false
  own-any v r Identifier l h = own-if (is_asked v r) (first_text l.texts) (symbol_of l) h
  own-any v r _ l h = refl

  any-if : (b : Bool) (bs : List Bound) → list_any q bs ≡ false → list_any q (if b then bs else []) ≡ false
  any-if true bs h = h
  any-if false bs h = refl

  mutual
    pub any-declared : (v : Bool) (r : Role) (t : Tree) → Named u f r t → list_any q (declared v r t) ≡ false
    any-declared v r (node k l fs) h = any-none q (own_declared v r k l) (declared_in v (reaches_out v k) (role_at r k l fs) fs) (own-any v r k l h.0.1) (any-in v (reaches_out v k) (role_at r k l fs) fs h.1)

    pub any-in : (v : Bool) (counts : ℕ → Bool) (roles : ℕ → Role) (fs : Fields) → NamedIn u f roles fs → list_any q (declared_in v counts roles fs) ≡ false
    any-in v counts roles done h = refl
    any-in v counts roles (w then fs) h = any-none q (if counts zero then declared_by v (roles zero) w else []) (declared_in v (λ i. counts (suc i)) (λ i. roles (suc i)) fs) (any-if (counts zero) (declared_by v (roles zero) w) (any-by v (roles zero) w h.0)) (any-in v (λ i. counts (suc i)) (λ i. roles (suc i)) fs h.1)

    any-by : (v : Bool) (r : Role) (w : Field) → NamedBy u f r w → list_any q (declared_by v r w) ≡ false
    any-by v r missing h = refl
    any-by v r (one t) h = any-declared v r t h
    any-by v r (many ts) h = any-all v r ts h
    any-by v r (statements ts) h = any-all v r ts h

    pub any-all : (v : Bool) (r : Role) (ts : Trees) → NamedAll u f r ts → list_any q (declared_among v r ts) ≡ false
    any-all v r empty h = refl
    any-all v r (t before ts) h = any-none q (declared v r t) (declared_among v r ts) (any-declared v r t h.0) (any-all v r ts h.1)

  symbols-any : (s : Option ℕ) → IsBelow f s → (bs : List Bound) → list_any q (map (with_symbol s) bs) ≡ false
  symbols-any s h [] = refl
  symbols-any s h (b ∷ bs) = rw (out (with_symbol s b) h) (symbols-any s h bs)

  name-own : (r : Role) (k : AstType) (l : Label) → IsBelow f (symbol_of l) → list_any q (own_name k r l) ≡ false
  name-own (Binds b) Identifier l h = own-if true (first_text l.texts) (symbol_of l) h
  name-own _ Identifier l h = refl
  name-own r _ l h = refl

  first-any : (roles : ℕ → Role) (fs : Fields) → NamedIn u f roles fs → list_any q (first_declared roles fs) ≡ false
  first-any roles done h = refl
  first-any roles (missing then fs) h = refl
  first-any roles (one (node k l gs) then fs) h = name-own (roles zero) k l h.0.0.1
  first-any roles (many ts then fs) h = refl
  first-any roles (statements ts then fs) h = refl

  pub name-any : (k : AstType) (roles : ℕ → Role) (fs : Fields) → NamedIn u f roles fs → list_any q (name_frame k roles fs) ≡ false
  name-any FunctionExpression roles fs h = first-any roles fs h
  name-any _ roles fs h = refl

  class-any : (k : AstType) (l : Label) (roles : ℕ → Role) (fs : Fields) → IsBelow f (symbol_of l) → list_any q (class_frame k l roles fs) ≡ false
  class-any ClassDeclaration l roles fs h = symbols-any (symbol_of l) h (first_declared roles fs)
  class-any ClassExpression l roles fs h = symbols-any (symbol_of l) h (first_declared roles fs)
  class-any _ l roles fs h = refl

  pub frame-any : (k : AstType) (l : Label) (roles : ℕ → Role) (fs : Fields) → IsBelow f (symbol_of l) → NamedIn u f roles fs → list_any q (frame k l roles fs) ≡ false
  frame-any k l roles fs h d = any-none q (class_frame k l roles fs) (declared_in false (is_inside k) roles fs) (class-any k l roles fs h) (any-in false (is_inside k) roles fs d)

pub no-sum : (a b : ℕ) → a ≡ 0 → b ≡ 0 → a + b ≡ 0
no-sum a b e d = omega arith

pub neither : (b c : Bool) → b ≡ false → c ≡ false → (b || c) ≡ false
neither b c e d = rw (e, d)

pub if-false : (b : Bool) (c : Bool) → c ≡ false → (if b then c else false) ≡ false
if-false true c e = e
if-false false c e = refl

module _ (u : Text → Bool) (f s : ℕ) (high : f ≤ s) where
  pub it-out : (b : Bound) → IsBelow f b.symbol → is_it s b ≡ false
  it-out b h = other_symbol f s high b.symbol h

  pub var-out : (ps : Text → Bool) (b : Bound) → IsBelow f b.symbol → is_var_of s ps b ≡ false
  var-out ps b h = rw (other_symbol f s high b.symbol h)

  pub own-none : (ps : Text → Bool) (k : AstType) (l : Label) (roles : ℕ → Role) (fs : Fields) → IsBelow f (symbol_of l) → NamedIn u f roles fs → own_binds s ps k l roles fs ≡ false
  own-none ps k l roles fs h d =
      if-false (has_scope k) (binds s (frame k l roles fs) || (if is_var_scope k then list_any (is_var_of s ps) (var_frame roles fs) else false))
      (neither (binds s (frame k l roles fs)) (if is_var_scope k then list_any (is_var_of s ps) (var_frame roles fs) else false) (frame-any u f (is_it s) it-out k l roles fs h d)
      (if-false (is_var_scope k) (list_any (is_var_of s ps) (var_frame roles fs)) (any-in u f (is_var_of s ps) (var-out ps) true (λ i. true) roles fs d)))

  mutual
    pub no-scopes : (ps : Text → Bool) (r : Role) (t : Tree) → Named u f r t → scopes_with s ps r t ≡ 0
    no-scopes ps r (node k l fs) h =
        no-sum (one_if (binds s (name_frame k (role_at r k l fs) fs)) + one_if (own_binds s ps k l (role_at r k l fs) fs)) (scopes_in s (parameters_in k l (role_at r k l fs) fs) (role_at r k l fs) fs)
        (no-sum (one_if (binds s (name_frame k (role_at r k l fs) fs))) (one_if (own_binds s ps k l (role_at r k l fs) fs)) (ap one_if (name-any u f (is_it s) it-out k (role_at r k l fs) fs h.1)) (ap one_if (own-none ps k l (role_at r k l fs) fs h.0.1 h.1)))
        (no-scopes-in (parameters_in k l (role_at r k l fs) fs) (role_at r k l fs) fs h.1)

    pub no-scopes-in : (ps : Text → Bool) (roles : ℕ → Role) (fs : Fields) → NamedIn u f roles fs → scopes_in s ps roles fs ≡ 0
    no-scopes-in ps roles done h = refl
    no-scopes-in ps roles (w then fs) h = no-sum (scopes_by s ps (roles zero) w) (scopes_in s ps (λ i. roles (suc i)) fs) (no-scopes-by ps (roles zero) w h.0) (no-scopes-in ps (λ i. roles (suc i)) fs h.1)

    pub no-scopes-by : (ps : Text → Bool) (r : Role) (w : Field) → NamedBy u f r w → scopes_by s ps r w ≡ 0
    no-scopes-by ps r missing h = refl
    no-scopes-by ps r (one t) h = no-scopes ps r t h
    no-scopes-by ps r (many ts) h = no-scopes-all ps r ts h
    no-scopes-by ps r (statements ts) h = no-scopes-all ps r ts h

    pub no-scopes-all : (ps : Text → Bool) (r : Role) (ts : Trees) → NamedAll u f r ts → scopes_among s ps r ts ≡ 0
    no-scopes-all ps r empty h = refl
    no-scopes-all ps r (t before ts) h = no-sum (scopes_with s ps r t) (scopes_among s ps r ts) (no-scopes ps r t h.0) (no-scopes-all ps r ts h.1)

-- PARAMETERS that are alike on the names in use

module _ (u : Text → Bool) (f s : ℕ) (P Q : Text → Bool) (alike : (y : Text) → u y ≡ true → Q y ≡ P y) where
  one-alike : (c : Bool) (x : Text) (o : Option ℕ) → u x ≡ true → list_any (is_var_of s Q) (if c then record { name = x; symbol = o } ∷ [] else []) ≡ list_any (is_var_of s P) (if c then record { name = x; symbol = o } ∷ [] else [])
  one-alike true x o h = λ i. (is_symbol s o && not (alike x h i)) || false
  one-alike false x o h = refl

  own-alike : (v : Bool) (r : Role) (k : AstType) (l : Label) → OwnUsed u r k l → list_any (is_var_of s Q) (own_declared v r k l) ≡ list_any (is_var_of s P) (own_declared v r k l)
  own-alike v (Binds b) Identifier l h = one-alike (is_asked v (Binds b)) (first_text l.texts) (symbol_of l) h
  own-alike v _ Identifier l h = refl
  own-alike v r _ l h = refl

  both-alike : (bs cs : List Bound) → list_any (is_var_of s Q) bs ≡ list_any (is_var_of s P) bs → list_any (is_var_of s Q) cs ≡ list_any (is_var_of s P) cs → list_any (is_var_of s Q) (bs ++ cs) ≡ list_any (is_var_of s P) (bs ++ cs)
  both-alike bs cs e d = list_any-append (is_var_of s Q) bs cs ∙ (λ i. e i || d i) ∙ sym (list_any-append (is_var_of s P) bs cs)

  if-alike : (b : Bool) (bs : List Bound) → list_any (is_var_of s Q) bs ≡ list_any (is_var_of s P) bs → list_any (is_var_of s Q) (if b then bs else []) ≡ list_any (is_var_of s P) (if b then bs else [])
  if-alike true bs h = h
  if-alike false bs h = refl

  mutual
    pub alike-declared : (v : Bool) (r : Role) (t : Tree) → Named u f r t → list_any (is_var_of s Q) (declared v r t) ≡ list_any (is_var_of s P) (declared v r t)
    alike-declared v r (node k l fs) h = both-alike (own_declared v r k l) (declared_in v (reaches_out v k) (role_at r k l fs) fs) (own-alike v r k l h.0.0) (alike-in v (reaches_out v k) (role_at r k l fs) fs h.1)

    pub alike-in : (v : Bool) (counts : ℕ → Bool) (roles : ℕ → Role) (fs : Fields) → NamedIn u f roles fs → list_any (is_var_of s Q) (declared_in v counts roles fs) ≡ list_any (is_var_of s P) (declared_in v counts roles fs)
    alike-in v counts roles done h = refl
    alike-in v counts roles (w then fs) h = both-alike (if counts zero then declared_by v (roles zero) w else []) (declared_in v (λ i. counts (suc i)) (λ i. roles (suc i)) fs) (if-alike (counts zero) (declared_by v (roles zero) w) (alike-by v (roles zero) w h.0)) (alike-in v (λ i. counts (suc i)) (λ i. roles (suc i)) fs h.1)

    alike-by : (v : Bool) (r : Role) (w : Field) → NamedBy u f r w → list_any (is_var_of s Q) (declared_by v r w) ≡ list_any (is_var_of s P) (declared_by v r w)
    alike-by v r missing h = refl
    alike-by v r (one t) h = alike-declared v r t h
    alike-by v r (many ts) h = alike-all v r ts h
    alike-by v r (statements ts) h = alike-all v r ts h

    alike-all : (v : Bool) (r : Role) (ts : Trees) → NamedAll u f r ts → list_any (is_var_of s Q) (declared_among v r ts) ≡ list_any (is_var_of s P) (declared_among v r ts)
    alike-all v r empty h = refl
    alike-all v r (t before ts) h = both-alike (declared v r t) (declared_among v r ts) (alike-declared v r t h.0) (alike-all v r ts h.1)

  own-parameters : (k : AstType) (l : Label) (roles : ℕ → Role) (fs : Fields) → NamedIn u f roles fs → own_binds s Q k l roles fs ≡ own_binds s P k l roles fs
  own-parameters k l roles fs h = λ i. if has_scope k then binds s (frame k l roles fs) || (if is_var_scope k then alike-in true (λ j. true) roles fs h i else false) else false

  pub alike-scopes : (r : Role) (t : Tree) → Named u f r t → scopes_with s Q r t ≡ scopes_with s P r t
  alike-scopes r (node k l fs) h = λ i. one_if (binds s (name_frame k (role_at r k l fs) fs)) + one_if (own-parameters k l (role_at r k l fs) fs h.1 i) + scopes_in s (parameters_in k l (role_at r k l fs) fs) (role_at r k l fs) fs

  pub alike-scopes-all : (r : Role) (ts : Trees) → NamedAll u f r ts → scopes_among s Q r ts ≡ scopes_among s P r ts
  alike-scopes-all r empty h = refl
  alike-scopes-all r (t before ts) h = λ i. alike-scopes r t h.0 i + alike-scopes-all r ts h.1 i

  alike-scopes-by : (r : Role) (w : Field) → NamedBy u f r w → scopes_by s Q r w ≡ scopes_by s P r w
  alike-scopes-by r missing h = refl
  alike-scopes-by r (one t) h = alike-scopes r t h
  alike-scopes-by r (many ts) h = alike-scopes-all r ts h
  alike-scopes-by r (statements ts) h = alike-scopes-all r ts h

  pub alike-scopes-in : (roles : ℕ → Role) (fs : Fields) → NamedIn u f roles fs → scopes_in s Q roles fs ≡ scopes_in s P roles fs
  alike-scopes-in roles done h = refl
  alike-scopes-in roles (w then fs) h = λ i. alike-scopes-by (roles zero) w h.0 i + alike-scopes-in (λ j. roles (suc j)) fs h.1 i

pub at-most-one : (b : Bool) → one_if b ≤ 1
at-most-one true = omega arith
at-most-one false = omega arith
