-- Where such calls are followed in a tree, and statements are put behind others, the same is declared around it, each symbol has its name, and each
-- identifier passes a test that the name passes.
use Rattle.std.proofs.Common.{◌≡◌, ℕ, zero, suc, refl, ap, sym, subst, ◌∙◌, [], ◌++◌}
use Rattle.std.specs.Prelude.{Bool, true, false, Option, if◌then◌else◌}
use Rattle.es_tree.specs.Scopes.{name_in, own_text}
use Rattle.es_tree.specs.Tree.{Tree, node, Label, Fields, done, ◌then◌, Field, missing, one, many, statements, Trees}
use Rattle.es_tree.specs.Words.{Text}
use Rattle.es_tree.specs.declared.ast_type.AstType.{AstType}
use Rattle.es_tree.specs.declared.ast_type.AstType.TheVariants.{BlockStatement, CallExpression, ClassDeclaration, ClassExpression, Identifier, SwitchCase}
use Rattle.es_semantic.specs.RolesOf.{reads, role_at}
use Rattle.es_semantic.specs.declared.place.Role.{Role}
use Rattle.es_resolution.specs.Called.{Called, CalledAll, CalledBy, CalledIn, HasName, OwnCalled}
use Rattle.es_resolution.specs.Declarations.{Bound, declared, declared_among, declared_by, declared_in, own_declared, reaches_out, symbol_of}
use Rattle.es_resolution.proofs.Roles.{role-same}
use Rattle.es_steps.specs.Identifiers.{HasIdentifier, IsIdentifier, OwnPasses, Passes, PassesAll, PassesBy, PassesIn}
use Rattle.es_steps.specs.Nodes.{identifier}
use Rattle.es_steps.proofs.Written.{nil-right}
use Rattle.es_set_this.specs.ConstructorThis.{set_statement, then_set}
use Rattle.es_constructor_this.specs.SetRows.{Puts}
use Rattle.es_constructor_this.specs.SetRows.Puts.{behind, further, nowhere}
use Rattle.es_constructor_this.proofs.Moved.{Moved, MovedAll, MovedBy, MovedIn, takes_none}
use Rattle.es_constructor_this.proofs.Moved.Moved.{blocked, called, cased, inside}
use Rattle.es_constructor_this.proofs.Moved.MovedAll.{head, tail}
use Rattle.es_constructor_this.proofs.Moved.MovedBy.{to_child, to_children, to_list}
use Rattle.es_constructor_this.proofs.Moved.MovedIn.{first, later}
use Rattle.es_constructor_this.proofs.MovedSights.{child-stays}

-- WHAT IS DECLARED

set-silent : (v : Bool) (r : Role) (b : Bound) → declared v r (set_statement (identifier b)) ≡ []
set-silent true r b = refl
set-silent false r b = refl

pub puts-declared : (v : Bool) (r : Role) (b : Bound) {ts us : Trees} → Puts (identifier b) ts us → declared_among v r us ≡ declared_among v r ts
puts-declared v r b nowhere = refl
puts-declared v r b (behind {t = t} {ts = ts}) = λ j. declared v r t ++ (set-silent v r b j ++ declared_among v r ts)
puts-declared v r b (further {t = t} p) = λ j. declared v r t ++ puts-declared v r b p j

pub then-declared : (v : Bool) (r : Role) (b : Bound) (l : Label) (fs : Fields) → declared v r (then_set (identifier b) l fs) ≡ declared v r (node CallExpression l fs)
then-declared true r b l fs = nil-right (declared true reads (node CallExpression l fs) ++ []) ∙ nil-right (declared true reads (node CallExpression l fs))
then-declared false r b l fs = nil-right (declared false reads (node CallExpression l fs) ++ []) ∙ nil-right (declared false reads (node CallExpression l fs))

pub block-declared : (v : Bool) (r : Role) (b : Bound) (l : Label) (ts us : Trees) → Puts (identifier b) ts us → declared v r (node BlockStatement l (statements us then done)) ≡ declared v r (node BlockStatement l (statements ts then done))
block-declared true r b l ts us p = λ j. puts-declared true (role_at r BlockStatement l (statements ts then done) 0) b p j ++ []
block-declared false r b l ts us p = refl

pub case-declared : (v : Bool) (r : Role) (b : Bound) (l : Label) (f : Field) (ts us : Trees) → Puts (identifier b) ts us → declared v r (node SwitchCase l (f then statements us then done)) ≡ declared v r (node SwitchCase l (f then statements ts then done))
case-declared true r b l f ts us p = λ j. declared_by true (role_at r SwitchCase l (f then statements ts then done) 0) f ++ (puts-declared true (role_at r SwitchCase l (f then statements ts then done) 1) b p j ++ [])
case-declared false r b l f ts us p = λ j. declared_by false (role_at r SwitchCase l (f then statements ts then done) 0) f ++ (puts-declared false (role_at r SwitchCase l (f then statements ts then done) 1) b p j ++ [])

module _ {B : Bound → Type 0} where
  mutual
    pub moved-declared : {c : Bool} (t u : Tree) → Moved B c t u → (v : Bool) (r : Role) → declared v r u ≡ declared v r t
    moved-declared _ _ (called {l = l} {fs = fs} b h e) v r = then-declared v r b l fs
    moved-declared _ _ (blocked {l = l} {ts = ts} {us = us} b h p) v r = block-declared v r b l ts us p
    moved-declared _ _ (cased {l = l} {f = f} {ts = ts} {us = us} b h p) v r = case-declared v r b l f ts us p
    moved-declared _ _ (inside {k = k} {l = l} {fs = fs} {gs = gs} m) v r =
        ap (λ roles. own_declared v r k l ++ declared_in v (reaches_out v k) roles gs) (role-same r k l fs gs (child-stays fs gs m)) ∙ ap (λ bs. own_declared v r k l ++ bs) (fields-declared fs gs m v (reaches_out v k) (role_at r k l fs))

    fields-declared : {c : ℕ → Bool} (fs gs : Fields) → MovedIn B c fs gs → (v : Bool) (counts : ℕ → Bool) (roles : ℕ → Role) → declared_in v counts roles gs ≡ declared_in v counts roles fs
    fields-declared _ _ (first {f = f} {g = g} {fs = fs} m) v counts roles = λ i. (if counts zero then field-declared f g m v (roles zero) i else []) ++ declared_in v (λ j. counts (suc j)) (λ j. roles (suc j)) fs
    fields-declared _ _ (later {f = f} {fs = fs} {gs = gs} m) v counts roles = λ i. (if counts zero then declared_by v (roles zero) f else []) ++ fields-declared fs gs m v (λ j. counts (suc j)) (λ j. roles (suc j)) i

    field-declared : {c : Bool} (f g : Field) → MovedBy B c f g → (v : Bool) (r : Role) → declared_by v r g ≡ declared_by v r f
    field-declared _ _ (to_child {t = t} {u = u} m) v r = moved-declared t u m v r
    field-declared _ _ (to_children {ts = ts} {us = us} m) v r = all-declared ts us m v r
    field-declared _ _ (to_list {ts = ts} {us = us} m) v r = all-declared ts us m v r

    pub all-declared : {c : Bool} (ts us : Trees) → MovedAll B c ts us → (v : Bool) (r : Role) → declared_among v r us ≡ declared_among v r ts
    all-declared _ _ (head {t = t} {u = u} {ts = ts} m) v r = λ i. moved-declared t u m v r i ++ declared_among v r ts
    all-declared _ _ (tail {t = t} {ts = ts} {us = us} m) v r = λ i. declared v r t ++ all-declared ts us m v r i

  -- THE NAME OF A CLASS stays, since no call stands there that is followed

  shut-text : {c : Bool} (t u : Tree) → Moved B c t u → c ≡ true → own_text u ≡ own_text t
  shut-text _ _ (called b h e) d = absurd (cc d)
  shut-text _ _ (blocked b h p) d = refl
  shut-text _ _ (cased b h p) d = refl
  shut-text _ _ (inside m) d = refl

  class-name : {c : ℕ → Bool} (fs gs : Fields) → c zero ≡ true → MovedIn B c fs gs → name_in gs ≡ name_in fs
  class-name _ _ e (first (to_child {t = t} {u = u} m)) = shut-text t u m e
  class-name _ _ e (first (to_children m)) = refl
  class-name _ _ e (first (to_list m)) = refl
  class-name _ _ e (later {f = missing} m) = refl
  class-name _ _ e (later {f = one t} m) = refl
  class-name _ _ e (later {f = many ts} m) = refl
  class-name _ _ e (later {f = statements ts} m) = refl

  still-identifier : {c : Bool} (t u : Tree) → Moved B c t u → c ≡ true → IsIdentifier t → IsIdentifier u
  still-identifier _ _ (called b h e) d k = absurd (cc d)
  still-identifier _ _ (blocked b h p) d k = k
  still-identifier _ _ (cased b h p) d k = k
  still-identifier _ _ (inside {k = Identifier} m) d k = tt
  still-identifier _ _ (inside {k = _} m) d k = absurd k

  has-identifier : {c : ℕ → Bool} (fs gs : Fields) → c zero ≡ true → MovedIn B c fs gs → HasIdentifier fs → HasIdentifier gs
  has-identifier _ _ e (first (to_child {t = t} {u = u} m)) k = still-identifier t u m e k
  has-identifier _ _ e (first (to_children m)) k = tt
  has-identifier _ _ e (first (to_list m)) k = tt
  has-identifier _ _ e (later {f = missing} m) k = tt
  has-identifier _ _ e (later {f = one t} m) k = k
  has-identifier _ _ e (later {f = many ts} m) k = tt
  has-identifier _ _ e (later {f = statements ts} m) k = tt

-- EACH SYMBOL under its name

module _ (f : ℕ → Text) where
  abbrev pub IsSymbol : Bound → Type 0
  IsSymbol b = HasName f b.symbol b.name

  puts-called : (b : Bound) → IsSymbol b → {ts us : Trees} → Puts (identifier b) ts us → CalledAll f ts → CalledAll f us
  puts-called b e nowhere h = h
  puts-called b e behind h = (h.0, ((tt, ((tt, ((e, tt), ((tt, tt), tt))), tt)), h.1))
  puts-called b e (further p) h = (h.0, puts-called b e p h.1)

  own-called : (k : AstType) (l : Label) (fs gs : Fields) → MovedIn IsSymbol (takes_none k) fs gs → OwnCalled f k l fs → OwnCalled f k l gs
  own-called Identifier l fs gs m h = h
  own-called ClassDeclaration l fs gs m h = subst (λ (x : Text). HasName f (symbol_of l) x) (sym (class-name fs gs refl m)) h
  own-called ClassExpression l fs gs m h = subst (λ (x : Text). HasName f (symbol_of l) x) (sym (class-name fs gs refl m)) h
  own-called _ l fs gs m h = tt

  mutual
    pub moved-called : {c : Bool} (t u : Tree) → Moved IsSymbol c t u → Called f t → Called f u
    moved-called _ _ (called b e calls) h = (tt, ((h, ((tt, ((e, tt), ((tt, tt), tt))), tt)), tt))
    moved-called _ _ (blocked b e p) h = (tt, (puts-called b e p h.1.0, tt))
    moved-called _ _ (cased b e p) h = (tt, (h.1.0, (puts-called b e p h.1.1.0, tt)))
    moved-called _ _ (inside {k = k} {l = l} {fs = fs} {gs = gs} m) h = (own-called k l fs gs m h.0, fields-called fs gs m h.1)

    fields-called : {c : ℕ → Bool} (fs gs : Fields) → MovedIn IsSymbol c fs gs → CalledIn f fs → CalledIn f gs
    fields-called _ _ (first {f = x} {g = y} m) h = (field-called x y m h.0, h.1)
    fields-called _ _ (later {fs = fs} {gs = gs} m) h = (h.0, fields-called fs gs m h.1)

    field-called : {c : Bool} (x y : Field) → MovedBy IsSymbol c x y → CalledBy f x → CalledBy f y
    field-called _ _ (to_child {t = t} {u = u} m) h = moved-called t u m h
    field-called _ _ (to_children {ts = ts} {us = us} m) h = all-called ts us m h
    field-called _ _ (to_list {ts = ts} {us = us} m) h = all-called ts us m h

    all-called : {c : Bool} (ts us : Trees) → MovedAll IsSymbol c ts us → CalledAll f ts → CalledAll f us
    all-called _ _ (head {t = t} {u = u} m) h = (moved-called t u m h.0, h.1)
    all-called _ _ (tail {ts = ts} {us = us} m) h = (h.0, all-called ts us m h.1)

-- A TEST of identifiers

module _ (q : Text → Option ℕ → Bool) where
  abbrev pub PassesIt : Bound → Type 0
  PassesIt b = q b.name b.symbol ≡ true

  pub puts-pass : (b : Bound) → PassesIt b → {ts us : Trees} → Puts (identifier b) ts us → PassesAll q ts → PassesAll q us
  puts-pass b e nowhere h = h
  puts-pass b e behind h = (h.0, ((tt, ((tt, ((e, tt), ((tt, tt), tt))), tt)), h.1))
  puts-pass b e (further p) h = (h.0, puts-pass b e p h.1)

  own-passes : (k : AstType) (l : Label) (fs gs : Fields) → MovedIn PassesIt (takes_none k) fs gs → OwnPasses q k l fs → OwnPasses q k l gs
  own-passes Identifier l fs gs m h = h
  own-passes ClassDeclaration l fs gs m h = (has-identifier fs gs refl m h.0, (λ j. q (class-name fs gs refl m j) (symbol_of l)) ∙ h.1)
  own-passes ClassExpression l fs gs m h = (has-identifier fs gs refl m h.0, (λ j. q (class-name fs gs refl m j) (symbol_of l)) ∙ h.1)
  own-passes _ l fs gs m h = tt

  pub then-passes : (b : Bound) (l : Label) (fs : Fields) → PassesIt b → Passes q (node CallExpression l fs) → Passes q (then_set (identifier b) l fs)
  then-passes b l fs e h = (tt, ((h, ((tt, ((e, tt), ((tt, tt), tt))), tt)), tt))

  mutual
    pub moved-passes : {c : Bool} (t u : Tree) → Moved PassesIt c t u → Passes q t → Passes q u
    moved-passes _ _ (called {l = l} {fs = fs} b e calls) h = then-passes b l fs e h
    moved-passes _ _ (blocked b e p) h = (tt, (puts-pass b e p h.1.0, tt))
    moved-passes _ _ (cased b e p) h = (tt, (h.1.0, (puts-pass b e p h.1.1.0, tt)))
    moved-passes _ _ (inside {k = k} {l = l} {fs = fs} {gs = gs} m) h = (own-passes k l fs gs m h.0, fields-pass fs gs m h.1)

    fields-pass : {c : ℕ → Bool} (fs gs : Fields) → MovedIn PassesIt c fs gs → PassesIn q fs → PassesIn q gs
    fields-pass _ _ (first {f = x} {g = y} m) h = (field-passes x y m h.0, h.1)
    fields-pass _ _ (later {fs = fs} {gs = gs} m) h = (h.0, fields-pass fs gs m h.1)

    field-passes : {c : Bool} (x y : Field) → MovedBy PassesIt c x y → PassesBy q x → PassesBy q y
    field-passes _ _ (to_child {t = t} {u = u} m) h = moved-passes t u m h
    field-passes _ _ (to_children {ts = ts} {us = us} m) h = all-pass ts us m h
    field-passes _ _ (to_list {ts = ts} {us = us} m) h = all-pass ts us m h

    all-pass : {c : Bool} (ts us : Trees) → MovedAll PassesIt c ts us → PassesAll q ts → PassesAll q us
    all-pass _ _ (head {t = t} {u = u} m) h = (moved-passes t u m h.0, h.1)
    all-pass _ _ (tail {ts = ts} {us = us} m) h = (h.0, all-pass ts us m h.1)
