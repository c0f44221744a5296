-- What a resolved tree declares around it has the symbols that names find there. So it matters not where a scope declares a name, by `var` or otherwise,
-- and whether others are declared beside it.
use Rattle.std.proofs.Common.{◌≡◌, ℕ, zero, suc, refl, sym, ap, subst, ◌∙◌, List, [], ◌∷◌, ◌++◌, ◌==◌, eq-eqb}
use Rattle.std.specs.Prelude.{Bool, true, false, not, ◌&&◌, ◌||◌, Option, Some, None, is_some, bytes_eq, if◌then◌else◌}
use Rattle.std.specs.List.{list_any, list_all}
use Rattle.std.proofs.lemmas.Bool.{eqb-true}
use Rattle.es_tree.specs.Words.{Text}
use Rattle.es_tree.specs.Names.{first_text}
use Rattle.es_tree.specs.Tree.{Tree, node, Label, Fields, done, ◌then◌, Field, missing, one, many, statements, Trees, empty, ◌before◌}
use Rattle.es_tree.specs.declared.ast_type.AstType.{AstType}
use Rattle.es_tree.specs.declared.ast_type.AstType.TheVariants.{FunctionExpression, Identifier}
use Rattle.es_semantic.specs.RolesOf.{role_at}
use Rattle.es_semantic.specs.Places.{is_inside}
use Rattle.es_semantic.specs.SymbolsOf.{hoists}
use Rattle.es_semantic.specs.declared.place.Binding.{Binding}
use Rattle.es_semantic.specs.declared.place.Binding.TheVariants.{FunctionName}
use Rattle.es_semantic.specs.declared.place.Role.{Role}
use Rattle.es_semantic.specs.declared.place.Role.TheVariants.{Binds}
use Rattle.es_resolution.specs.Declarations.{Bound, sought, has_scope, is_var_scope, is_lexical, reaches_out, own_declared, declared, declared_in, declared_by, declared_among}
use Rattle.es_resolution.specs.Resolved.{Place, around, inner, hoisting, name_frame, bound_by, or_around, within, place_in, OwnRight, Resolved, ResolvedIn, ResolvedBy, ResolvedAll}
use Rattle.es_resolution.proofs.Basics.{Each, bytes_eq-self, bytes_eq-equal}
use Rattle.es_resolution.proofs.Declares.{declared-none}
use Rattle.es_resolution.proofs.Placed.{Placed, PlacedAll, PlacedBy, PlacedIn, is_last, is_name_first}
use Rattle.es_steps.specs.Patterns.{no_name_of}
use Rattle.es_using_modules.proofs.TopShifts.{in_both}

-- NAMES WITH WHAT THEY FIND

abbrev pub Finds : (Text → Option ℕ) → List Bound → Type 0
Finds f bs = Each (λ b. b.symbol ≡ f b.name) bs

pub finds-both : (f : Text → Option ℕ) (bs cs : List Bound) → Finds f bs → Finds f cs → Finds f (bs ++ cs)
finds-both f [] cs h k = k
finds-both f (b ∷ bs) cs h k = (h.0, finds-both f bs cs h.1 k)

finds-if : (f : Text → Option ℕ) (v : Bool) (bs : List Bound) → (v ≡ true → Finds f bs) → Finds f (if v then bs else [])
finds-if f true bs h = h refl
finds-if f false bs h = tt

-- what is asked for of a place
abbrev pub asked : Bool → Place → Text → Option ℕ
asked v p = if v then p.hoist else p.scope

not-hoisted : (b : Binding) → is_lexical b ≡ true → hoists b ≡ false
not-hoisted FunctionName e = absurd (cc e)
not-hoisted b e = at (hoists b) e
  where
    at : (v : Bool) → not v ≡ true → v ≡ false
    at true e = absurd (cc e)
    at false e = refl

own-finds : (v : Bool) (p : Place) (r : Role) (k : AstType) (l : Label) → OwnRight p r k l → Finds (asked v p) (own_declared v r k l)
own-finds true p (Binds b) Identifier l d = finds-if p.hoist (hoists b) _ (λ e. (d.0 ∙ (λ i. if e i then p.hoist (first_text l.texts) else p.scope (first_text l.texts)), tt))
own-finds false p (Binds b) Identifier l d = finds-if p.scope (is_lexical b) _ (λ e. (d.0 ∙ (λ i. if not-hoisted b e i then p.hoist (first_text l.texts) else p.scope (first_text l.texts)), tt))
own-finds v p _ Identifier l d = tt
own-finds v p r _ l d = tt

-- INWARDS

same-scope : (a : Bool) (i o : Text → Option ℕ) → not a ≡ true → (if a then i else o) ≡ o
same-scope true i o e = absurd (cc e)
same-scope false i o e = refl

around-same : (p : Place) (k : AstType) (roles : ℕ → Role) (fs : Fields) → name_frame k roles fs ≡ [] → around p k roles fs ≡ p.scope
around-same p k roles fs e = λ i. within (e i) p.scope

-- the fields of a node that aren't in its scope
out-asked : (v : Bool) (p : Place) (k : AstType) (l : Label) (roles : ℕ → Role) (fs : Fields) → name_frame k roles fs ≡ [] → (i : ℕ) → reaches_out v k i ≡ true → asked v (place_in p k l roles fs i) ≡ asked v p
out-asked true p k l roles fs e i d = same-scope (is_var_scope k) (hoisting p k l roles fs) p.hoist d
out-asked false p k l roles fs e i d = same-scope (has_scope k && is_inside k i) (inner p k l roles fs) (around p k roles fs) d ∙ around-same p k roles fs e

out-hoist : (p : Place) (k : AstType) (l : Label) (roles : ℕ → Role) (fs : Fields) (i : ℕ) → reaches_out true k i ≡ true → asked true (place_in p k l roles fs i) ≡ asked true p
out-hoist p k l roles fs i d = same-scope (is_var_scope k) (hoisting p k l roles fs) p.hoist d

-- the name of a function expression isn't declared around it
name-silent : (roles : ℕ → Role) (r : Role) (l : Label) (fs : Fields) → is_name_first fs ≡ true → declared_in false (reaches_out false FunctionExpression) (role_at r FunctionExpression l fs) fs ≡ []
name-silent roles r l (missing then fs) e = declared-none false (λ i. role_at r FunctionExpression l (missing then fs) (suc i)) fs
name-silent roles r l (one (node Identifier c done) then fs) e = declared-none false (λ i. role_at r FunctionExpression l (one (node Identifier c done) then fs) (suc i)) fs
name-silent roles r l fs e = absurd (cc e)

mutual
  pub tree-finds : (v : Bool) (r : Role) (p : Place) (above : AstType) (last : Bool) (t : Tree) → Placed above last t → Resolved r p t → Finds (asked v p) (declared v r t)
  tree-finds true r p above last (node k l fs) e d =
      finds-both p.hoist (own_declared true r k l) (declared_in true (reaches_out true k) (role_at r k l fs) fs) (own-finds true p r k l d.0)
      (fields-find true p.hoist k (reaches_out true k) (role_at r k l fs) (place_in p k l (role_at r k l fs) fs) fs (out-hoist p k l (role_at r k l fs) fs) e.2 d.2)
  tree-finds false r p above last (node FunctionExpression l fs) e d = subst (λ (bs : List Bound). Finds p.scope bs) (sym (name-silent (role_at r FunctionExpression l fs) r l fs e.1)) tt
  tree-finds false r p above last (node k l fs) e d =
      finds-both p.scope (own_declared false r k l) (declared_in false (reaches_out false k) (role_at r k l fs) fs) (own-finds false p r k l d.0)
      (fields-find false p.scope k (reaches_out false k) (role_at r k l fs) (place_in p k l (role_at r k l fs) fs) fs (out-asked false p k l (role_at r k l fs) fs refl) e.2 d.2)

  pub fields-find : (v : Bool) (f : Text → Option ℕ) (k : AstType) (counts : ℕ → Bool) (roles : ℕ → Role) (ps : ℕ → Place) (fs : Fields) → ((i : ℕ) → counts i ≡ true → asked v (ps i) ≡ f) → PlacedIn k fs → ResolvedIn roles ps fs → Finds f (declared_in v counts roles fs)
  fields-find v f k counts roles ps done h e d = tt
  fields-find v f k counts roles ps (g then fs) h e d =
      finds-both f (if counts zero then declared_by v (roles zero) g else []) (declared_in v (λ i. counts (suc i)) (λ i. roles (suc i)) fs)
      (finds-if f (counts zero) (declared_by v (roles zero) g) (λ c. subst (λ (z : Text → Option ℕ). Finds z (declared_by v (roles zero) g)) (h zero c) (field-finds v k (is_last fs) (roles zero) (ps zero) g e.0 d.0)))
      (fields-find v f k (λ i. counts (suc i)) (λ i. roles (suc i)) (λ i. ps (suc i)) fs (λ i. h (suc i)) e.1 d.1)

  field-finds : (v : Bool) (k : AstType) (last : Bool) (r : Role) (p : Place) (g : Field) → PlacedBy k last g → ResolvedBy r p g → Finds (asked v p) (declared_by v r g)
  field-finds v k last r p missing e d = tt
  field-finds v k last r p (one t) e d = tree-finds v r p k last t e d
  field-finds v k last r p (many ts) e d = trees-find v k r p ts e d
  field-finds v k last r p (statements ts) e d = trees-find v k r p ts e d

  trees-find : (v : Bool) (k : AstType) (r : Role) (p : Place) (ts : Trees) → PlacedAll k ts → ResolvedAll r p ts → Finds (asked v p) (declared_among v r ts)
  trees-find v k r p empty e d = tt
  trees-find v k r p (t before ts) e d = finds-both (asked v p) (declared v r t) (declared_among v r ts) (tree-finds v r p k false t e.0 d.0) (trees-find v k r p ts e.1 d.1)

-- AS A TEST

abbrev same_symbol : Option ℕ → Option ℕ → Bool
same_symbol None None = true
same_symbol (Some m) (Some n) = m == n
same_symbol _ _ = false

symbol-self : (o : Option ℕ) → same_symbol o o ≡ true
symbol-self None = refl
symbol-self (Some m) = eq-eqb m m refl

symbol-equal : (o p : Option ℕ) → same_symbol o p ≡ true → o ≡ p
symbol-equal None None e = refl
symbol-equal (Some m) (Some n) e = ap Some (eqb-true m n e)
symbol-equal None (Some n) e = absurd (cc e)
symbol-equal (Some m) None e = absurd (cc e)

abbrev is_wrong : (Text → Option ℕ) → Bound → Bool
is_wrong f b = not (same_symbol b.symbol (f b.name))

abbrev is_called : Text → Bound → Bool
is_called y b = bytes_eq b.name y

or_first : (a b : Bool) → (a || b) ≡ false → a ≡ false
or_first true b e = absurd (cc e)
or_first false b e = refl

or_second : (a b : Bool) → (a || b) ≡ false → b ≡ false
or_second true b e = absurd (cc e)
or_second false b e = e

right-found : (f : Text → Option ℕ) (b : Bound) → is_wrong f b ≡ false → b.symbol ≡ f b.name
right-found f b e = symbol-equal b.symbol (f b.name) (at (same_symbol b.symbol (f b.name)) e)
  where
    at : (v : Bool) → not v ≡ false → v ≡ true
    at true e = refl
    at false e = absurd (cc e)

-- what is sought among names that find what they should
sought-right : (f : Text → Option ℕ) (y : Text) (bs : List Bound) → list_any (is_wrong f) bs ≡ false → sought bs y ≡ (if list_any (is_called y) bs then Some (f y) else None)
sought-right f y [] e = refl
sought-right f y (b ∷ bs) e = at (bytes_eq b.name y) refl (sought-right f y bs (or_second (is_wrong f b) (list_any (is_wrong f) bs) e))
  where
    at : (v : Bool) → bytes_eq b.name y ≡ v → sought bs y ≡ (if list_any (is_called y) bs then Some (f y) else None) → (if v then Some b.symbol else sought bs y) ≡ (if v || list_any (is_called y) bs then Some (f y) else None)
    at true d h = ap Some (right-found f b (or_first (is_wrong f b) (list_any (is_wrong f) bs) e) ∙ ap f (bytes_eq-equal b.name y d))
    at false d h = h

-- what a name finds among these, and then these, in the outermost scope
abbrev pub look_up : List Bound → List Bound → Text → Option ℕ
look_up bs cs y = or_around (sought bs y) (or_around (sought cs y) None)

look-right : (f : Text → Option ℕ) (y : Text) (bs cs : List Bound) → in_both (is_wrong f) bs cs ≡ false → look_up bs cs y ≡ (if in_both (is_called y) bs cs then f y else None)
look-right f y bs cs e = (λ i. or_around (sought-right f y bs (or_first (list_any (is_wrong f) bs) (list_any (is_wrong f) cs) e) i) (or_around (sought-right f y cs (or_second (list_any (is_wrong f) bs) (list_any (is_wrong f) cs) e) i) None)) ∙ at (list_any (is_called y) bs) (list_any (is_called y) cs)
  where
    at : (a b : Bool) → or_around (if a then Some (f y) else None) (or_around (if b then Some (f y) else None) None) ≡ (if a || b then f y else None)
    at true b = refl
    at false true = refl
    at false false = refl

finds-right : (f : Text → Option ℕ) (bs : List Bound) → Finds f bs → list_any (is_wrong f) bs ≡ false
finds-right f [] h = refl
finds-right f (b ∷ bs) h = λ i. not ((ap (λ z. same_symbol b.symbol z) (sym h.0) ∙ symbol-self b.symbol) i) || finds-right f bs h.1 i

-- THE SAME NAMES AND SOME MORE: each finds what it found, and a new one its own symbol

module _ (ns L V L' V' : List Bound) (any : (q : Bound → Bool) → in_both q L' V' ≡ (list_any q ns || in_both q L V)) (lexical : Finds (look_up L V) L) (vars : Finds (look_up L V) V) (lexical-old : list_all (no_name_of ns) L ≡ true) (vars-old : list_all (no_name_of ns) V ≡ true) (news : Finds (λ y. or_around (sought ns y) None) ns) where
  abbrev earlier : Text → Option ℕ
  earlier = look_up L V

  abbrev now : Text → Option ℕ
  now y = or_around (sought ns y) (earlier y)

  old-name : (b : Bound) → no_name_of ns b ≡ true → sought ns b.name ≡ None
  old-name b e = at (sought ns b.name) e
    where
      at : (o : Option (Option ℕ)) → not (is_some o) ≡ true → o ≡ None
      at None e = refl
      at (Some s) e = absurd (cc e)

  and_first : (a b : Bool) → (a && b) ≡ true → a ≡ true
  and_first true b e = refl
  and_first false b e = absurd (cc e)

  and_second : (a b : Bool) → (a && b) ≡ true → b ≡ true
  and_second true b e = e
  and_second false b e = absurd (cc e)

  old-right : (bs : List Bound) → Finds earlier bs → list_all (no_name_of ns) bs ≡ true → Finds now bs
  old-right [] h e = tt
  old-right (b ∷ bs) h e = (h.0 ∙ sym (ap (λ z. or_around z (earlier b.name)) (old-name b (and_first (no_name_of ns b) (list_all (no_name_of ns) bs) e))), old-right bs h.1 (and_second (no_name_of ns b) (list_all (no_name_of ns) bs) e))

  called-some : (y : Text) (bs : List Bound) → list_any (is_called y) bs ≡ bound_by bs y
  called-some y [] = refl
  called-some y (b ∷ bs) = at (bytes_eq b.name y) (called-some y bs)
    where
      at : (v : Bool) → list_any (is_called y) bs ≡ bound_by bs y → (v || list_any (is_called y) bs) ≡ is_some (if v then Some b.symbol else sought bs y)
      at true h = refl
      at false h = h

  bound-now : (y : Text) (o : Option (Option ℕ)) → is_some o ≡ true → or_around o None ≡ or_around o (earlier y)
  bound-now y None e = absurd (cc e)
  bound-now y (Some s) e = refl

  new-right : (bs : List Bound) → ((y : Text) → list_any (is_called y) bs ≡ true → bound_by ns y ≡ true) → Finds (λ y. or_around (sought ns y) None) bs → Finds now bs
  new-right [] h k = tt
  new-right (b ∷ bs) h k = (k.0 ∙ bound-now b.name (sought ns b.name) (h b.name (λ i. bytes_eq-self b.name i || list_any (is_called b.name) bs)), new-right bs (λ y e. h y (or-right (bytes_eq b.name y) (list_any (is_called y) bs) e)) k.1)
    where
      or-right : (a c : Bool) → c ≡ true → (a || c) ≡ true
      or-right true c e = refl
      or-right false c e = e

  all-right : in_both (is_wrong now) L' V' ≡ false
  all-right = any (is_wrong now) ∙ (λ i. finds-right now ns (new-right ns (λ y e. sym (called-some y ns) ∙ e) news) i || (finds-right now L (old-right L lexical lexical-old) i || finds-right now V (old-right V vars vars-old) i))

  earlier-right : in_both (is_wrong earlier) L V ≡ false
  earlier-right = λ i. finds-right earlier L lexical i || finds-right earlier V vars i

  pub old-found : (y : Text) → sought ns y ≡ None → look_up L' V' y ≡ look_up L V y
  old-found y e =
      look-right now y L' V' all-right
      ∙ (λ i. if (any (is_called y) ∙ (λ j. (called-some y ns ∙ ap (λ z. is_some z) e) j || in_both (is_called y) L V)) i then or_around (e i) (earlier y) else None)
      ∙ sym (look-right earlier y L V earlier-right)

  pub new-found : (y : Text) (o : Option ℕ) → sought ns y ≡ Some o → look_up L' V' y ≡ o
  new-found y o e = look-right now y L' V' all-right ∙ (λ i. if (any (is_called y) ∙ (λ j. (called-some y ns ∙ ap (λ z. is_some z) e) j || in_both (is_called y) L V)) i then or_around (e i) (earlier y) else None)
