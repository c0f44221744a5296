-- What a tree declares with its symbols: the same names, each with the symbol of the scope in which it is declared.
use Rattle.std.proofs.Common.{◌≡◌, ℕ, zero, suc, refl, sym, ap, ◌∙◌, subst, List, [], ◌∷◌, ◌++◌}
use Rattle.std.specs.Prelude.{Bool, true, false, not, ◌||◌, ◌&&◌, ◌+◌, Option, is_some, if◌then◌else◌}
use Rattle.std.proofs.lemmas.Bool.{not-true}
use Rattle.es_tree.specs.Words.{Text}
use Rattle.es_tree.specs.Names.{first_text}
use Rattle.es_tree.specs.Children.{child_at, only_child}
use Rattle.es_tree.specs.Tree.{Tree, node, Label, Fields, done, ◌then◌, Field, missing, one, many, statements, Trees, empty, ◌before◌}
use Rattle.es_tree.specs.declared.ast_type.AstType.{AstType}
use Rattle.es_tree.specs.declared.ast_type.AstType.TheVariants.{Program, Identifier, FunctionExpression, FunctionBody, StaticBlock}
use Rattle.es_semantic.specs.RolesOf.{role_at}
use Rattle.es_semantic.specs.Places.{Place, first, makes_scope, has_name_scope, is_inside, own_scope_count, around_in, place_in, scope_count_in, scope_count_in_field}
use Rattle.es_semantic.specs.SymbolsOf.{Declared, hoists, hoist_scope, symbol_in}
use Rattle.es_semantic.specs.declared.place.Role.{Role}
use Rattle.es_semantic.specs.declared.place.Role.TheVariants.{Binds}
use Rattle.es_resolution.specs.Declarations.{Bound, is_asked, own_declared, reaches_out, declared, declared_in, declared_by, declared_among}
use Rattle.es_resolution.proofs.SymbolTrees.{symbol_for, own_symbols, resolved_tree, resolved_in, resolved_by, resolved_among}
use Rattle.es_resolution.proofs.Basics.{Each}
use Rattle.es_resolution.proofs.Roles.{role-same}
use Rattle.es_resolution.proofs.Declares.{own_declares, declares, declares_in, declares_by, declares_among}
use Rattle.es_resolution.proofs.Placed.{is_last, is_name_first, kind_fits, name_fits, Placed, PlacedAll, PlacedBy, PlacedIn}
use Rattle.es_resolution.proofs.Declares.{declared-none, goes_out}
use Rattle.es_tree.specs.declared.ast_type.AstType.TheVariants.{ClassDeclaration, ClassExpression, FunctionDeclaration}
use Rattle.es_semantic.specs.declared.place.Binding.{Binding}
use Rattle.es_semantic.specs.declared.place.Binding.TheVariants.{FunctionName}

-- ROLES

abbrev pub marked : Label → List (Option ℕ) → Label
marked l m = record l { id = 0; marks = m }

role-label : (r : Role) (k : AstType) (l : Label) (m : List (Option ℕ)) (fs : Fields) (i : ℕ) → role_at r k (marked l m) fs i ≡ role_at r k l fs i
role-label r Program l m fs i = refl
role-label r _ l m fs i = refl

field-kept : (F : List Declared) (p : Place) (n : ℕ) (f : Field) → is_some (only_child (resolved_by F p n f)) ≡ is_some (only_child f)
field-kept F p n missing = refl
field-kept F p n (one t) = refl
field-kept F p n (many ts) = refl
field-kept F p n (statements ts) = refl

child-kept : (F : List Declared) (ps : ℕ → Place) (n : ℕ) (fs : Fields) (i : ℕ) → is_some (child_at i (resolved_in F ps n fs)) ≡ is_some (child_at i fs)
child-kept F ps n done i = refl
child-kept F ps n (f then fs) zero = field-kept F (ps zero) n f
child-kept F ps n (f then fs) (suc i) = child-kept F (λ j. ps (suc j)) (n + scope_count_in_field f) fs i

-- the roles in a node with its symbols are those of the node
pub role-kept : (F : List Declared) (ps : ℕ → Place) (n : ℕ) (r : Role) (k : AstType) (l : Label) (m : List (Option ℕ)) (fs : Fields) → role_at r k (marked l m) (resolved_in F ps n fs) ≡ role_at r k l fs
role-kept F ps n r k l m fs = role-same r k (marked l m) fs (resolved_in F ps n fs) (child-kept F ps n fs) ∙ (λ j i. role-label r k l m fs i j)

-- NAMES

own-kept : (x : Text) (v : Bool) (r : Role) (k : AstType) (l : Label) (m : List (Option ℕ)) → own_declares x v r k (marked l m) ≡ own_declares x v r k l
own-kept x v r Identifier l m = refl
own-kept x v r _ l m = refl

mutual
  pub names-tree : (F : List Declared) (x : Text) (v : Bool) (r : Role) (p : Place) (n : ℕ) (t : Tree) → declares x v r (resolved_tree F p n t) ≡ declares x v r t
  names-tree F x v r p n (node k l fs) =
      let m = own_symbols F p n k l fs in
      λ i. own-kept x v r k l m i || (ap (λ (roles : ℕ → Role). declares_in x v (goes_out v k) roles (resolved_in F (place_in p n k l fs) (n + own_scope_count k fs) fs)) (role-kept F (place_in p n k l fs) (n + own_scope_count k fs) r k l m fs) ∙ names-in F x v (goes_out v k) (role_at r k l fs) (place_in p n k l fs) (n + own_scope_count k fs) fs) i

  pub names-in : (F : List Declared) (x : Text) (v : Bool) (counts : ℕ → Bool) (roles : ℕ → Role) (ps : ℕ → Place) (n : ℕ) (fs : Fields) → declares_in x v counts roles (resolved_in F ps n fs) ≡ declares_in x v counts roles fs
  names-in F x v counts roles ps n done = refl
  names-in F x v counts roles ps n (f then fs) = λ i. (counts zero && names-by F x v (roles zero) (ps zero) n f i) || names-in F x v (λ i. counts (suc i)) (λ i. roles (suc i)) (λ i. ps (suc i)) (n + scope_count_in_field f) fs i

  names-by : (F : List Declared) (x : Text) (v : Bool) (r : Role) (p : Place) (n : ℕ) (f : Field) → declares_by x v r (resolved_by F p n f) ≡ declares_by x v r f
  names-by F x v r p n missing = refl
  names-by F x v r p n (one t) = names-tree F x v r p n t
  names-by F x v r p n (many ts) = names-among F x v r p n ts
  names-by F x v r p n (statements ts) = names-among F x v r p n ts

  names-among : (F : List Declared) (x : Text) (v : Bool) (r : Role) (p : Place) (n : ℕ) (ts : Trees) → declares_among x v r (resolved_among F p n ts) ≡ declares_among x v r ts
  names-among F x v r p n empty = refl
  names-among F x v r p n (t before ts) = λ i. names-tree F x v r p n t i || names-among F x v r p (n + scope_count_in t) ts i

-- SYMBOLS

-- the scope in which `var`, or another declaration, declares this name here
abbrev pub target : Bool → List Declared → Place → Text → ℕ
target true F p x = hoist_scope F p x
target false F p x = first p.around

abbrev pub HasSymbol : List Declared → (Text → ℕ) → Bound → Type 0
HasSymbol F goal b = b.symbol ≡ symbol_in F (goal b.name) b.name

pub each-append : (P : Bound → Type 0) (bs cs : List Bound) → Each P bs → Each P cs → Each P (bs ++ cs)
each-append P [] cs h d = d
each-append P (b ∷ bs) cs h d = (h.0, each-append P bs cs h.1 d)

each-if : (P : Bound → Type 0) (c : Bool) (bs : List Bound) → (c ≡ true → Each P bs) → Each P (if c then bs else [])
each-if P true bs h = h refl
each-if P false bs h = tt

own-target : (v : Bool) (F : List Declared) (p : Place) (x : Text) (c : Bool) → Each (HasSymbol F (target v F p)) (if (if v then c else not c) then record { name = x; symbol = symbol_in F (if c then hoist_scope F p x else first p.around) x } ∷ [] else [])
own-target true F p x true = (refl, tt)
own-target true F p x false = tt
own-target false F p x true = tt
own-target false F p x false = (refl, tt)

own-binding : (v : Bool) (F : List Declared) (p : Place) (x : Text) (b : Binding) → Each (HasSymbol F (target v F p)) (if is_asked v (Binds b) then record { name = x; symbol = symbol_for F p (Binds b) x } ∷ [] else [])
own-binding true F p x b = own-target true F p x (hoists b)
own-binding false F p x FunctionName = tt
own-binding false F p x b = own-target false F p x (hoists b)

own-role : (v : Bool) (F : List Declared) (p : Place) (x : Text) (r : Role) → Each (HasSymbol F (target v F p)) (if is_asked v r then record { name = x; symbol = symbol_for F p r x } ∷ [] else [])
own-role v F p x (Binds b) = own-binding v F p x b
own-role v F p x _ = tt

own-each : (v : Bool) (F : List Declared) (p : Place) (n : ℕ) (k : AstType) (l : Label) (fs : Fields) → Each (HasSymbol F (target v F p)) (own_declared v p.role k (marked l (own_symbols F p n k l fs)))
own-each v F p n Identifier l fs = own-role v F p (first_text l.texts) p.role
own-each v F p n _ l fs = tt

-- where a declaration reaches out of a node, it is declared where it would be around the node
pub first-around : (up : List ℕ) (n : ℕ) (k : AstType) (fs : Fields) (i : ℕ) → (makes_scope k && is_inside k i) ≡ false → has_name_scope k fs ≡ false → first (around_in up n k fs i) ≡ first up
first-around up n k fs i e d = rw (e, d) refl

pub out-hoisted : (F : List Declared) (p : Place) (n : ℕ) (k : AstType) (l : Label) (fs : Fields) (i : ℕ) → reaches_out true k i ≡ true → (x : Text) → hoist_scope F (place_in p n k l fs i) x ≡ hoist_scope F p x
out-hoisted F p n Program l fs i h x = absurd (cc h)
out-hoisted F p n FunctionBody l fs i h x = absurd (cc h)
out-hoisted F p n StaticBlock l fs i h x = absurd (cc h)
out-hoisted F p n _ l fs i h x = refl

-- the name of a function expression isn't declared around it
name-declared : (P : Bound → Type 0) (F : List Declared) (ps : ℕ → Place) (n : ℕ) (r : Role) (l : Label) (fs : Fields) → is_name_first fs ≡ true → Each P (declared_in false (reaches_out false FunctionExpression) (role_at r FunctionExpression l fs) (resolved_in F ps n fs))
name-declared P F ps n r l (missing then fs) e = subst (Each P) (sym (declared-none false (λ i. role_at r FunctionExpression l (missing then fs) (suc i)) (resolved_in F (λ i. ps (suc i)) (n + 0) fs))) tt
name-declared P F ps n r l (one (node Identifier c done) then fs) e = subst (Each P) (sym (declared-none false (λ i. role_at r FunctionExpression l (one (node Identifier c done) then fs) (suc i)) (resolved_in F (λ i. ps (suc i)) (n + 0) fs))) tt
name-declared P F ps n r l fs e = absurd (cc e)

node-symbols : (v : Bool) (F : List Declared) (p : Place) (n m : ℕ) (k : AstType) (l : Label) (fs : Fields) (above : AstType) (last : Bool) → kind_fits above last k ≡ true → name_fits k fs ≡ true →
    (((i : ℕ) → reaches_out v k i ≡ true → (x : Text) → target v F (place_in p n k l fs i) x ≡ target v F p x) → Each (HasSymbol F (target v F p)) (declared_in v (reaches_out v k) (role_at p.role k l fs) (resolved_in F (place_in p n k l fs) m fs))) →
    Each (HasSymbol F (target v F p)) (declared_in v (reaches_out v k) (role_at p.role k l fs) (resolved_in F (place_in p n k l fs) m fs))
node-symbols true F p n m k l fs above last d e h = h (out-hoisted F p n k l fs)
node-symbols false F p n m Program l fs above last d e h = absurd (cc d)
node-symbols false F p n m FunctionExpression l fs above last d e h = name-declared (HasSymbol F (target false F p)) F (place_in p n FunctionExpression l fs) m p.role l fs e
node-symbols false F p n m k l fs above last d e h = h (λ i c x. first-around p.around n k fs i (not-true (makes_scope k && is_inside k i) c) refl)

each-goal : (F : List Declared) (g g' : Text → ℕ) → ((x : Text) → g x ≡ g' x) → (bs : List Bound) → Each (HasSymbol F g) bs → Each (HasSymbol F g') bs
each-goal F g g' e [] h = tt
each-goal F g g' e (b ∷ bs) h = (h.0 ∙ ap (λ s. symbol_in F s b.name) (e b.name), each-goal F g g' e bs h.1)

mutual
  pub symbols-tree : (v : Bool) (F : List Declared) (above : AstType) (last : Bool) (p : Place) (n : ℕ) (t : Tree) → Placed above last t → Each (HasSymbol F (target v F p)) (declared v p.role (resolved_tree F p n t))
  symbols-tree v F above last p n (node k l fs) d =
      let m = own_symbols F p n k l fs in
      let gs = resolved_in F (place_in p n k l fs) (n + own_scope_count k fs) fs in
      each-append (HasSymbol F (target v F p)) (own_declared v p.role k (marked l m)) (declared_in v (reaches_out v k) (role_at p.role k (marked l m) gs) gs) (own-each v F p n k l fs)
      (subst (λ (roles : ℕ → Role). Each (HasSymbol F (target v F p)) (declared_in v (reaches_out v k) roles gs)) (sym (role-kept F (place_in p n k l fs) (n + own_scope_count k fs) p.role k l m fs))
      (node-symbols v F p n (n + own_scope_count k fs) k l fs above last d.0 d.1 (symbols-in v F (target v F p) k (reaches_out v k) (place_in p n k l fs) (n + own_scope_count k fs) fs d.2)))

  pub symbols-in : (v : Bool) (F : List Declared) (goal : Text → ℕ) (k : AstType) (counts : ℕ → Bool) (ps : ℕ → Place) (n : ℕ) (fs : Fields) → PlacedIn k fs → ((i : ℕ) → counts i ≡ true → (x : Text) → target v F (ps i) x ≡ goal x) → Each (HasSymbol F goal) (declared_in v counts (λ i. (ps i).role) (resolved_in F ps n fs))
  symbols-in v F goal k counts ps n done d e = tt
  symbols-in v F goal k counts ps n (f then fs) d e =
      each-append (HasSymbol F goal) (if counts zero then declared_by v (ps zero).role (resolved_by F (ps zero) n f) else []) (declared_in v (λ i. counts (suc i)) (λ i. (ps (suc i)).role) (resolved_in F (λ i. ps (suc i)) (n + scope_count_in_field f) fs))
      (each-if (HasSymbol F goal) (counts zero) (declared_by v (ps zero).role (resolved_by F (ps zero) n f)) (λ c. each-goal F (target v F (ps zero)) goal (e zero c) (declared_by v (ps zero).role (resolved_by F (ps zero) n f)) (symbols-by v F k (is_last fs) (ps zero) n f d.0)))
      (symbols-in v F goal k (λ i. counts (suc i)) (λ i. ps (suc i)) (n + scope_count_in_field f) fs d.1 (λ i. e (suc i)))

  symbols-by : (v : Bool) (F : List Declared) (k : AstType) (last : Bool) (p : Place) (n : ℕ) (f : Field) → PlacedBy k last f → Each (HasSymbol F (target v F p)) (declared_by v p.role (resolved_by F p n f))
  symbols-by v F k last p n missing d = tt
  symbols-by v F k last p n (one t) d = symbols-tree v F k last p n t d
  symbols-by v F k last p n (many ts) d = symbols-among v F k p n ts d
  symbols-by v F k last p n (statements ts) d = symbols-among v F k p n ts d

  symbols-among : (v : Bool) (F : List Declared) (k : AstType) (p : Place) (n : ℕ) (ts : Trees) → PlacedAll k ts → Each (HasSymbol F (target v F p)) (declared_among v p.role (resolved_among F p n ts))
  symbols-among v F k p n empty d = tt
  symbols-among v F k p n (t before ts) d = each-append (HasSymbol F (target v F p)) (declared v p.role (resolved_tree F p n t)) (declared_among v p.role (resolved_among F p (n + scope_count_in t) ts)) (symbols-tree v F k false p n t d.0) (symbols-among v F k p (n + scope_count_in t) ts d.1)

-- BODIES AND NAMES STAND WHERE THEY STOOD

first-kept : (F : List Declared) (ps : ℕ → Place) (n : ℕ) (fs : Fields) → is_name_first fs ≡ true → is_name_first (resolved_in F ps n fs) ≡ true
first-kept F ps n (missing then fs) e = refl
first-kept F ps n (one (node Identifier c done) then fs) e = refl
first-kept F ps n fs e = absurd (cc e)

name-kept : (F : List Declared) (ps : ℕ → Place) (n : ℕ) (k : AstType) (fs : Fields) → name_fits k fs ≡ true → name_fits k (resolved_in F ps n fs) ≡ true
name-kept F ps n FunctionDeclaration fs e = first-kept F ps n fs e
name-kept F ps n FunctionExpression fs e = first-kept F ps n fs e
name-kept F ps n ClassDeclaration fs e = first-kept F ps n fs e
name-kept F ps n ClassExpression fs e = first-kept F ps n fs e
name-kept F ps n _ fs e = refl

last-kept : (F : List Declared) (ps : ℕ → Place) (n : ℕ) (fs : Fields) → is_last (resolved_in F ps n fs) ≡ is_last fs
last-kept F ps n done = refl
last-kept F ps n (f then fs) = refl

mutual
  placed-tree : (F : List Declared) (above : AstType) (last : Bool) (p : Place) (n : ℕ) (t : Tree) → Placed above last t → Placed above last (resolved_tree F p n t)
  placed-tree F above last p n (node k l fs) d = (d.0, name-kept F (place_in p n k l fs) (n + own_scope_count k fs) k fs d.1, placed-in F k (place_in p n k l fs) (n + own_scope_count k fs) fs d.2)

  pub placed-in : (F : List Declared) (k : AstType) (ps : ℕ → Place) (n : ℕ) (fs : Fields) → PlacedIn k fs → PlacedIn k (resolved_in F ps n fs)
  placed-in F k ps n done d = tt
  placed-in F k ps n (f then fs) d =
      let gs = resolved_in F (λ i. ps (suc i)) (n + scope_count_in_field f) fs in
      (subst (λ c. PlacedBy k c (resolved_by F (ps zero) n f)) (sym (last-kept F (λ i. ps (suc i)) (n + scope_count_in_field f) fs)) (placed-by F k (is_last fs) (ps zero) n f d.0), placed-in F k (λ i. ps (suc i)) (n + scope_count_in_field f) fs d.1)

  placed-by : (F : List Declared) (k : AstType) (last : Bool) (p : Place) (n : ℕ) (f : Field) → PlacedBy k last f → PlacedBy k last (resolved_by F p n f)
  placed-by F k last p n missing d = tt
  placed-by F k last p n (one t) d = placed-tree F k last p n t d
  placed-by F k last p n (many ts) d = placed-among F k p n ts d
  placed-by F k last p n (statements ts) d = placed-among F k p n ts d

  placed-among : (F : List Declared) (k : AstType) (p : Place) (n : ℕ) (ts : Trees) → PlacedAll k ts → PlacedAll k (resolved_among F p n ts)
  placed-among F k p n empty d = tt
  placed-among F k p n (t before ts) d = (placed-tree F k false p n t d.0, placed-among F k p (n + scope_count_in t) ts d.1)
