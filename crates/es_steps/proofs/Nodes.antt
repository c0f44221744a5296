-- A node keeps what its fields keep.
use Rattle.std.proofs.Common.{arith, ◌≤◌, ◌<◌, ◌+◌, ◌≡◌, ℕ, suc, refl, sym, ap, subst, ◌∙◌, List, [], ◌∷◌, ◌++◌}
use Rattle.std.specs.Prelude.{Bool, true, false, ◌||◌, ◌&&◌, not, Option, Some, None, is_some, map, if◌then◌else◌}
use Rattle.std.specs.List.{list_any}
use Rattle.std.proofs.lemmas.Bool.{ne_eqb}
use Rattle.std.proofs.lemmas.List.Folds.{list_any-append}
use Rattle.es_tree.specs.Words.{Text}
use Rattle.es_tree.specs.References.{is_symbol}
use Rattle.es_resolution.specs.Single.{is_it, binds, is_var_of, own_binds, one_if, scopes_in}
use Rattle.es_steps.proofs.Scopes.{it-out, var-out, own-none, any-in, name-any, frame-any, neither, alike-scopes-in}
use Rattle.es_tree.specs.Names.{first_text}
use Rattle.es_tree.specs.Tree.{node, Label, Fields, done, ◌then◌}
use Rattle.es_tree.specs.declared.ast_type.AstType.{AstType}
use Rattle.es_tree.specs.declared.ast_type.AstType.TheVariants.{Program, FunctionBody, StaticBlock, Identifier, FunctionExpression, ClassDeclaration, ClassExpression}
use Rattle.es_semantic.specs.RolesOf.{role_at}
use Rattle.es_semantic.specs.Places.{is_inside}
use Rattle.es_semantic.specs.ScopesOf.{is_function}
use Rattle.es_semantic.specs.SymbolsOf.{hoists}
use Rattle.es_semantic.specs.declared.place.Role.{Role}
use Rattle.es_semantic.specs.declared.place.Role.TheVariants.{Nothing, Binds}
use Rattle.es_resolution.specs.Declarations.{Bound, sought, symbol_of, has_scope, is_var_scope, reaches_out, own_declared, declared_in}
use Rattle.es_resolution.specs.Resolved.{Place, hoisting, first_declared, name_frame, with_symbol, class_frame, frame, var_frame, or_around, within, within_vars, around, vars_in, inner, bound_by, no_name, parameters_in, place_in, IsRight, OwnRight, IsMarked, ResolvedIn}
use Rattle.es_resolution.specs.Named.{OwnUsed, IsBelow, NamedIn, IsUsed}
use Rattle.es_resolution.proofs.Roles.{role-same}
use Rattle.es_resolution.proofs.Basics.{either_of, sought-append, sought-symbols, none-append}
use Rattle.es_steps.proofs.Kept.{Change, Known, AgreeOn, Agree, SameParameters, SeesOn, Sees, SeesIf, SeesIn, Adds, Hoisted, Lexical, LexicalIn, Each, IsNew, few, limit, Looks, Kept, KeptIn, every}
use Rattle.es_steps.proofs.Kept.Change.{above, below, lexed, sealed}
use Rattle.es_resolution.proofs.MoreNames.{own-more}
use Rattle.es_steps.proofs.Names.{declared-free-in, first-free, own_free}

pub or_first : (a b : Bool) → (a || b) ≡ false → a ≡ false
or_first true b h = h
or_first false b h = refl

pub or_second : (a b : Bool) → (a || b) ≡ false → b ≡ false
or_second true b h = absurd (cc h)
or_second false b h = h

-- WHAT IS SEEN

agree-if : (n : Known) (b : Bool) (f f' g g' : Text → Option ℕ) → AgreeOn n f f' → AgreeOn n g g' → AgreeOn n (if b then f else g) (if b then f' else g')
agree-if n true f f' g g' a c = a
agree-if n false f f' g g' a c = c

agree-within : (n : Known) (bs cs : List Bound) (f g : Text → Option ℕ) → ((y : Text) → n.in_use y ≡ true → sought cs y ≡ sought bs y) → AgreeOn n f g → AgreeOn n (within bs f) (within cs g)
agree-within n bs cs f g s a = λ y h i. or_around (s y h i) (a y h i)

agree-vars : (n : Known) (P Q : Text → Bool) (bs cs : List Bound) (f g : Text → Option ℕ) → ((y : Text) → n.in_use y ≡ true → Q y ≡ P y) → ((y : Text) → n.in_use y ≡ true → sought cs y ≡ sought bs y) → AgreeOn n f g → AgreeOn n (within_vars P bs f) (within_vars Q cs g)
agree-vars n P Q bs cs f g e s a = λ y h i. if e y h i then a y h i else or_around (s y h i) (a y h i)

sees-if : (n : Known) (b : Bool) (f g : Text → Option ℕ) → SeesOn n f → (b ≡ false → SeesOn n g) → SeesOn n (if b then f else g)
sees-if n true f g a c = a
sees-if n false f g a c = c refl

-- none of the new names is among these
abbrev pub Lacks : Known → List Bound → Type 0
Lacks n cs = (y : Text) (o : Option ℕ) → sought n.given y ≡ Some o → sought cs y ≡ None

sees-within : (n : Known) (cs : List Bound) (g : Text → Option ℕ) → Lacks n cs → SeesOn n g → SeesOn n (within cs g)
sees-within n cs g none s = λ y o e. ap (λ z. or_around z (g y)) (none y o e) ∙ s y o e

both : (b : Bool) (a c o : Option ℕ) → a ≡ o → c ≡ o → (if b then a else c) ≡ o
both true a c o e d = e
both false a c o e d = d

sees-through : (n : Known) (Q : Text → Bool) (cs : List Bound) (g : Text → Option ℕ) → Lacks n cs → SeesOn n g → SeesOn n (within_vars Q cs g)
sees-through n Q cs g none s = λ y o e. both (Q y) (g y) (within cs g y) o (s y o e) (sees-within n cs g none s y o e)

sees-new : (n : Known) (Q : Text → Bool) (cs : List Bound) (g : Text → Option ℕ) → ((y : Text) (o : Option ℕ) → sought n.given y ≡ Some o → Q y ≡ false) → ((y : Text) (o : Option ℕ) → sought n.given y ≡ Some o → sought cs y ≡ Some o) → SeesOn n (within_vars Q cs g)
sees-new n Q cs g out new = λ y o e. ap (λ b. if b then g y else within cs g y) (out y o e) ∙ ap (λ z. or_around z (g y)) (new y o e)

hoisted-used : (c : Change) (n : Known) (bs cs : List Bound) → Hoisted c n bs cs → (y : Text) → n.in_use y ≡ true → sought cs y ≡ sought bs y
hoisted-used above n bs cs h y u = ap (λ ds. sought ds y) h
hoisted-used below n bs cs h y u = h.used y u
hoisted-used lexed n bs cs h y u = ap (λ ds. sought ds y) h
hoisted-used sealed n bs cs h y u = ap (λ ds. sought ds y) h

-- WHAT IS ADDED

pub adds-right : (n : Known) (es bs cs : List Bound) → Lacks n es → Adds n bs cs → Adds n (es ++ bs) (es ++ cs)
adds-right n es bs cs none h = record {
  used = λ y u. sought-append es cs y ∙ ap (λ z. either_of (sought es y) z) (h.used y u) ∙ sym (sought-append es bs y);
  new = λ y o e. sought-append es cs y ∙ ap (λ z. either_of z (sought cs y)) (none y o e) ∙ h.new y o e;
  others = λ q e. list_any-append q es cs ∙ ap (λ z. list_any q es || z) (h.others q e) ∙ sym (list_any-append q es bs);
}

pub adds-left : (n : Known) (es bs cs : List Bound) → Adds n bs cs → Adds n (bs ++ es) (cs ++ es)
adds-left n es bs cs h = record {
  used = λ y u. sought-append cs es y ∙ ap (λ z. either_of z (sought es y)) (h.used y u) ∙ sym (sought-append bs es y);
  new = λ y o e. sought-append cs es y ∙ ap (λ z. either_of z (sought es y)) (h.new y o e);
  others = λ q e. list_any-append q cs es ∙ ap (λ z. z || list_any q es) (h.others q e) ∙ sym (list_any-append q bs es);
}

-- what is declared in other ways than by `var`
pub lexical-right : (c : Change) (n : Known) (es bs cs : List Bound) → Lacks n es → Lexical c n bs cs → Lexical c n (es ++ bs) (es ++ cs)
lexical-right above n es bs cs none h = ap (λ ds. es ++ ds) h
lexical-right below n es bs cs none h = ap (λ ds. es ++ ds) h
lexical-right lexed n es bs cs none h = adds-right n es bs cs none h
lexical-right sealed n es bs cs none h = ap (λ ds. es ++ ds) h

pub lexical-left : (c : Change) (n : Known) (es bs cs : List Bound) → Lexical c n bs cs → Lexical c n (bs ++ es) (cs ++ es)
lexical-left above n es bs cs h = ap (λ ds. ds ++ es) h
lexical-left below n es bs cs h = ap (λ ds. ds ++ es) h
lexical-left lexed n es bs cs h = adds-left n es bs cs h
lexical-left sealed n es bs cs h = ap (λ ds. ds ++ es) h

pub some-right : (c : Change) (n : Known) (b : Bool) (es bs cs : List Bound) → Lacks n es → LexicalIn c n b bs cs → LexicalIn c n b (es ++ bs) (es ++ cs)
some-right above n b es bs cs none h = ap (λ ds. es ++ ds) h
some-right below n b es bs cs none h = ap (λ ds. es ++ ds) h
some-right lexed n true es bs cs none h = adds-right n es bs cs none h
some-right lexed n false es bs cs none h = ap (λ ds. es ++ ds) h
some-right sealed n b es bs cs none h = ap (λ ds. es ++ ds) h

-- the first field, which counts or not, with the others as they were
pub some-left : (c : Change) (n : Known) (b : Bool) (es bs cs : List Bound) → Lexical c n bs cs → LexicalIn c n b ((if b then bs else []) ++ es) ((if b then cs else []) ++ es)
some-left above n b es bs cs h = ap (λ ds. (if b then ds else []) ++ es) h
some-left below n b es bs cs h = ap (λ ds. (if b then ds else []) ++ es) h
some-left lexed n true es bs cs h = adds-left n es bs cs h
some-left lexed n false es bs cs h = refl
some-left sealed n b es bs cs h = ap (λ ds. (if b then ds else []) ++ es) h

some-used : (c : Change) (n : Known) (b : Bool) (bs cs : List Bound) → LexicalIn c n b bs cs → (y : Text) → n.in_use y ≡ true → sought cs y ≡ sought bs y
some-used above n b bs cs h y u = ap (λ ds. sought ds y) h
some-used below n b bs cs h y u = ap (λ ds. sought ds y) h
some-used lexed n true bs cs h y u = h.used y u
some-used lexed n false bs cs h y u = ap (λ ds. sought ds y) h
some-used sealed n b bs cs h y u = ap (λ ds. sought ds y) h

some-any : (c : Change) (n : Known) (b : Bool) (q : Bound → Bool) (bs cs : List Bound) → LexicalIn c n b bs cs → Each (λ d. q d ≡ false) n.given → list_any q cs ≡ list_any q bs
some-any above n b q bs cs h e = ap (λ ds. list_any q ds) h
some-any below n b q bs cs h e = ap (λ ds. list_any q ds) h
some-any lexed n true q bs cs h e = h.others q e
some-any lexed n false q bs cs h e = ap (λ ds. list_any q ds) h
some-any sealed n b q bs cs h e = ap (λ ds. list_any q ds) h

some-equal : (c : Change) (n : Known) (b : Bool) (bs cs : List Bound) → LexicalIn c n b bs cs → (c ≡ lexed → b ≡ false) → cs ≡ bs
some-equal above n b bs cs h e = h
some-equal below n b bs cs h e = h
some-equal lexed n true bs cs h e = absurd (cc (e refl))
some-equal lexed n false bs cs h e = h
some-equal sealed n b bs cs h e = h

-- HOISTING

-- what the change is seen from outside the node: its scope takes what is declared in it
abbrev pub closing : Change → Bool → Bool → Change
closing above v out = above
closing below true out = sealed
closing below false out = below
closing lexed v true = lexed
closing lexed v false = sealed
closing sealed v out = sealed

pub hoisted-right : (c : Change) (n : Known) (es bs cs : List Bound) → Lacks n es → Hoisted c n bs cs → Hoisted c n (es ++ bs) (es ++ cs)
hoisted-right above n es bs cs none h = ap (λ ds. es ++ ds) h
hoisted-right lexed n es bs cs none h = ap (λ ds. es ++ ds) h
hoisted-right sealed n es bs cs none h = ap (λ ds. es ++ ds) h
hoisted-right below n es bs cs none h = adds-right n es bs cs none h

pub hoisted-left : (c : Change) (n : Known) (es bs cs : List Bound) → Hoisted c n bs cs → Hoisted c n (bs ++ es) (cs ++ es)
hoisted-left above n es bs cs h = ap (λ ds. ds ++ es) h
hoisted-left lexed n es bs cs h = ap (λ ds. ds ++ es) h
hoisted-left sealed n es bs cs h = ap (λ ds. ds ++ es) h
hoisted-left below n es bs cs h = adds-left n es bs cs h

none_counts : (v : Bool) (roles : ℕ → Role) (fs : Fields) → declared_in v (λ i. false) roles fs ≡ []
none_counts v roles done = refl
none_counts v roles (f then fs) = none_counts v (λ i. roles (suc i)) fs

closed-hoisted : (c : Change) (b out : Bool) (n : Known) (roles : ℕ → Role) (own : List Bound) (fs gs : Fields) → Lacks n own → Hoisted c n (declared_in true every roles fs) (declared_in true every roles gs) → Hoisted (closing c b out) n (own ++ declared_in true (λ i. not b) roles fs) (own ++ declared_in true (λ i. not b) roles gs)
closed-hoisted above false out n roles own fs gs none h = hoisted-right above n own (declared_in true every roles fs) (declared_in true every roles gs) none h
closed-hoisted below false out n roles own fs gs none h = hoisted-right below n own (declared_in true every roles fs) (declared_in true every roles gs) none h
closed-hoisted lexed false true n roles own fs gs none h = ap (λ ds. own ++ ds) h
closed-hoisted lexed false false n roles own fs gs none h = ap (λ ds. own ++ ds) h
closed-hoisted sealed false out n roles own fs gs none h = ap (λ ds. own ++ ds) h
closed-hoisted above true out n roles own fs gs none h = ap (λ ds. own ++ ds) (none_counts true roles gs ∙ sym (none_counts true roles fs))
closed-hoisted below true out n roles own fs gs none h = ap (λ ds. own ++ ds) (none_counts true roles gs ∙ sym (none_counts true roles fs))
closed-hoisted lexed true true n roles own fs gs none h = ap (λ ds. own ++ ds) (none_counts true roles gs ∙ sym (none_counts true roles fs))
closed-hoisted lexed true false n roles own fs gs none h = ap (λ ds. own ++ ds) (none_counts true roles gs ∙ sym (none_counts true roles fs))
closed-hoisted sealed true out n roles own fs gs none h = ap (λ ds. own ++ ds) (none_counts true roles gs ∙ sym (none_counts true roles fs))

closed-lexical : (c : Change) (b out : Bool) (n : Known) (bs cs : List Bound) → LexicalIn c n out bs cs → Lexical (closing c b out) n bs cs
closed-lexical above b out n bs cs h = h
closed-lexical below true out n bs cs h = h
closed-lexical below false out n bs cs h = h
closed-lexical lexed b true n bs cs h = h
closed-lexical lexed b false n bs cs h = h
closed-lexical sealed b out n bs cs h = h

-- what a new symbol is not
given-it : (n : Known) (s : ℕ) → s < n.free → (bs : List Bound) → Each (λ b. IsNew n.free n.free_after b.symbol) bs → Each (λ b. is_it s b ≡ false) bs
given-it n s old [] h = tt
given-it n s old (b ∷ bs) h = (at b.symbol h.0, given-it n s old bs h.1)
  where
    at : (o : Option ℕ) → IsNew n.free n.free_after o → is_symbol s o ≡ false
    at None e = absurd e
    at (Some m) e = ne_eqb m s (λ f. omega arith)

pub given-out : (n : Known) (s : ℕ) → s < n.free → Each (λ b. is_it s b ≡ false) n.given
given-out n s old = given-it n s old n.given n.range

no-var : (s : ℕ) (ps : Text → Bool) (bs : List Bound) → Each (λ b. is_it s b ≡ false) bs → Each (λ b. is_var_of s ps b ≡ false) bs
no-var s ps [] h = tt
no-var s ps (b ∷ bs) h = ((λ i. h.0 i && not (ps b.name)), no-var s ps bs h.1)

unbound-it : (s : ℕ) (bs : List Bound) → binds s bs ≡ false → Each (λ b. is_it s b ≡ false) bs
unbound-it s [] h = tt
unbound-it s (b ∷ bs) h = (or_first (is_it s b) (binds s bs) h, unbound-it s bs (or_second (is_it s b) (binds s bs) h))

hoisted-any : (c : Change) (n : Known) (q : Bound → Bool) (bs cs : List Bound) → Hoisted c n bs cs → Each (λ b. q b ≡ false) n.given → list_any q cs ≡ list_any q bs
hoisted-any above n q bs cs h e = ap (λ ds. list_any q ds) h
hoisted-any below n q bs cs h e = h.others q e
hoisted-any lexed n q bs cs h e = ap (λ ds. list_any q ds) h
hoisted-any sealed n q bs cs h e = ap (λ ds. list_any q ds) h

not-both : (b : Bool) → b ≡ false → b ≡ true → ⊥
not-both true e d = absurd (cc e)
not-both false e d = absurd (cc d)

-- an identifier stays right
right-kept : (n : Known) (p q : Place) → Agree n p q → (r : Role) (x : Text) (s : Option ℕ) → IsUsed n.in_use r x → IsRight p r x s → IsRight q r x s
right-kept n p q a Nothing x s u h = tt
right-kept n p q a (Binds b) x s u h = (h.0 ∙ at (hoists b), h.1)
  where
    at : (b : Bool) → (if b then p.hoist x else p.scope x) ≡ (if b then q.hoist x else q.scope x)
    at true = sym (a.hoist x u)
    at false = sym (a.scope x u)
right-kept n p q a _ x s u h = h ∙ sym (a.scope x u)

own-right : (n : Known) (p q : Place) → Agree n p q → (r : Role) (k : AstType) (l : Label) → OwnUsed n.in_use r k l → OwnRight p r k l → OwnRight q r k l
own-right n p q a r Identifier l u h = right-kept n p q a r (first_text l.texts) (symbol_of l) u h
own-right n p q a r _ l u h = tt

and-second : (a b : Bool) → (a && b) ≡ true → b ≡ true
and-second true b e = e
and-second false b e = absurd (cc e)

and-false : (a b : Bool) → a ≡ true → (a && b) ≡ false → b ≡ false
and-false true b e d = d
and-false false b e d = absurd (cc e)

-- a scope of `var` has all its fields inside
pub var-inside : (k : AstType) (i : ℕ) → is_var_scope k ≡ true → (has_scope k && is_inside k i) ≡ true
var-inside Program i e = refl
var-inside FunctionBody i e = refl
var-inside StaticBlock i e = refl
var-inside _ i e = absurd (cc e)

still-lexed : (c : Change) (v out : Bool) → closing c v out ≡ lexed → c ≡ lexed
still-lexed above v out e = absurd (cc e)
still-lexed below true out e = absurd (cc e)
still-lexed below false out e = absurd (cc e)
still-lexed lexed v out e = refl
still-lexed sealed v out e = absurd (cc e)

-- A NODE

abbrev pub node_scopes : ℕ → (Text → Bool) → AstType → Label → (ℕ → Role) → Fields → ℕ
node_scopes s ps k l roles fs = one_if (binds s (name_frame k roles fs)) + one_if (own_binds s ps k l roles fs) + scopes_in s (parameters_in k l roles fs) roles fs

pub record NodeKept (n : Known) (b : Place) (c : Change) (r : Role) (k : AstType) (l : Label) (fs gs : Fields) (rf rg : ℕ → Role) : Type 0 where
  pub lexical : Lexical c n (own_declared false r k l ++ declared_in false (reaches_out false k) rf fs) (own_declared false r k l ++ declared_in false (reaches_out false k) rg gs)
  pub hoisted : Hoisted c n (own_declared true r k l ++ declared_in true (reaches_out true k) rf fs) (own_declared true r k l ++ declared_in true (reaches_out true k) rg gs)
  pub named : (OwnUsed n.in_use_after r k l × IsBelow n.free_after (symbol_of l)) × NamedIn n.in_use_after n.free_after rg gs
  pub scopes : (s : ℕ) (ps : Text → Bool) → s < n.free → ◌≡◌ {A = ℕ} (node_scopes s ps k l rg gs) (node_scopes s ps k l rf fs)
  pub new_scopes : (s : ℕ) (ps : Text → Bool) → n.free ≤ s → node_scopes s ps k l rg gs ≤ limit c n s
  pub resolved : (p q : Place) → Agree n p q → (is_var_scope k ≡ true → SameParameters c n p q) → SeesIf c n q → Looks (is_var_scope k) b p → OwnRight p r k l × IsMarked (class_frame k l rf fs) × ResolvedIn rf (place_in p k l rf fs) fs → OwnRight q r k l × IsMarked (class_frame k l rg gs) × ResolvedIn rg (place_in q k l rg gs) gs

-- what a rule was told of the fields
pub looks-in : (b p : Place) (k : AstType) (l : Label) (roles : ℕ → Role) (fs : Fields) → Looks (is_var_scope k) b p → (i : ℕ) → Looks true (place_in b k l roles fs i) (place_in p k l roles fs i)
looks-in b p k l roles fs h i = record { scope = λ j. if has_scope k && is_inside k i then within (frame k l roles fs) (vars j) else out j; parameters = λ e. refl }
  where
    out : around p k roles fs ≡ around b k roles fs
    out = λ j. within (name_frame k roles fs) (h.scope j)

    vars-at : (v : Bool) → (v ≡ true → p.parameters ≡ b.parameters) → (if v then within_vars p.parameters (var_frame roles fs) (around p k roles fs) else around p k roles fs) ≡ (if v then within_vars b.parameters (var_frame roles fs) (around b k roles fs) else around b k roles fs)
    vars-at true e = λ j. within_vars (e refl j) (var_frame roles fs) (out j)
    vars-at false e = out

    vars : vars_in p k roles fs ≡ vars_in b k roles fs
    vars = vars-at (is_var_scope k) h.parameters

module _ (n : Known) (b : Place) (c : Change) (r : Role) (k : AstType) (l : Label) (roles : ℕ → Role) (fs gs : Fields) (h : KeptIn n (place_in b k l roles fs) c roles fs gs) (own : OwnUsed n.in_use r k l × IsBelow n.free (symbol_of l)) (used : NamedIn n.in_use n.free roles fs) where
  counted-lacks : (counts : ℕ → Bool) → Lacks n (declared_in false counts roles fs)
  counted-lacks counts y o e = declared-free-in n.in_use n.free y (n.fresh y o e) false counts roles fs used

  vars-lack : Lacks n (var_frame roles fs)
  vars-lack y o e = declared-free-in n.in_use n.free y (n.fresh y o e) true every roles fs used

  first-lacks : Lacks n (first_declared roles gs)
  first-lacks y o e = ap (λ ds. sought ds y) h.own ∙ first-free n.in_use n.free y (n.fresh y o e) roles fs used

  name-same-by : (k : AstType) → name_frame k roles gs ≡ name_frame k roles fs
  name-same-by FunctionExpression = h.own
  name-same-by _ = refl

  name-same : name_frame k roles gs ≡ name_frame k roles fs
  name-same = name-same-by k

  name-lacks-by : (k : AstType) → Lacks n (name_frame k roles gs)
  name-lacks-by FunctionExpression y o e = first-lacks y o e
  name-lacks-by _ y o e = refl

  class-same-by : (k : AstType) → class_frame k l roles gs ≡ class_frame k l roles fs
  class-same-by ClassDeclaration = ap (λ ds. map (with_symbol (symbol_of l)) ds) h.own
  class-same-by ClassExpression = ap (λ ds. map (with_symbol (symbol_of l)) ds) h.own
  class-same-by _ = refl

  class-same : class_frame k l roles gs ≡ class_frame k l roles fs
  class-same = class-same-by k

  class-lacks-by : (k : AstType) → Lacks n (class_frame k l roles gs)
  class-lacks-by ClassDeclaration y o e = sought-symbols (symbol_of l) (first_declared roles gs) y (first-lacks y o e)
  class-lacks-by ClassExpression y o e = sought-symbols (symbol_of l) (first_declared roles gs) y (first-lacks y o e)
  class-lacks-by _ y o e = refl

  abbrev is_in : Bool
  is_in = is_inside k h.spot

  frame-some : LexicalIn c n is_in (frame k l roles fs) (frame k l roles gs)
  frame-some = subst (λ (z : List Bound). LexicalIn c n is_in (z ++ declared_in false (is_inside k) roles fs) (class_frame k l roles gs ++ declared_in false (is_inside k) roles gs)) class-same (some-right c n is_in (class_frame k l roles gs) (declared_in false (is_inside k) roles fs) (declared_in false (is_inside k) roles gs) (class-lacks-by k) (h.lexical (is_inside k)))

  frame-lacks-before : Lacks n (frame k l roles fs)
  frame-lacks-before y o e = none-append (class_frame k l roles fs) (declared_in false (is_inside k) roles fs) y (ap (λ ds. sought ds y) (sym class-same) ∙ class-lacks-by k y o e) (counted-lacks (is_inside k) y o e)

  frame-lacks : (c ≡ lexed → is_in ≡ false) → Lacks n (frame k l roles gs)
  frame-lacks none y o e = ap (λ ds. sought ds y) (some-equal c n is_in (frame k l roles fs) (frame k l roles gs) frame-some none) ∙ frame-lacks-before y o e

  hoisted-lacks : (c ≡ below → ⊥) → Lacks n (var_frame roles gs)
  hoisted-lacks none y o e = at c none h.hoisted
    where
      at : (c : Change) → (c ≡ below → ⊥) → Hoisted c n (var_frame roles fs) (var_frame roles gs) → sought (var_frame roles gs) y ≡ None
      at above none d = ap (λ ds. sought ds y) d ∙ vars-lack y o e
      at below none d = absurd (none refl)
      at lexed none d = ap (λ ds. sought ds y) d ∙ vars-lack y o e
      at sealed none d = ap (λ ds. sought ds y) d ∙ vars-lack y o e

  module _ (p q : Place) (a : Agree n p q) where
    around-agrees : AgreeOn n (around p k roles fs) (around q k roles gs)
    around-agrees = agree-within n (name_frame k roles fs) (name_frame k roles gs) p.scope q.scope (λ y u. ap (λ ds. sought ds y) name-same) a.scope

    around-sees : SeesOn n q.scope → SeesOn n (around q k roles gs)
    around-sees s = sees-within n (name_frame k roles gs) q.scope (name-lacks-by k) s

    into-sees : (c ≡ lexed → is_in ≡ false) → SeesOn n (vars_in q k roles gs) → SeesOn n (inner q k l roles gs)
    into-sees none s = sees-within n (frame k l roles gs) (vars_in q k roles gs) (frame-lacks none) s

    -- where the new names are seen around the node
    vars-see : (c ≡ below → is_var_scope k ≡ true → ⊥) → SeesOn n q.scope → SeesOn n (vars_in q k roles gs)
    vars-see none s = at (is_var_scope k) refl
      where
        at : (v : Bool) → is_var_scope k ≡ v → SeesOn n (if v then within_vars q.parameters (var_frame roles gs) (around q k roles gs) else around q k roles gs)
        at true e = sees-through n q.parameters (var_frame roles gs) (around q k roles gs) (hoisted-lacks (λ d. none d e)) (around-sees s)
        at false e = around-sees s

    module _ (ps : is_var_scope k ≡ true → SameParameters c n p q) where
      vars-agree : AgreeOn n (vars_in p k roles fs) (vars_in q k roles gs)
      vars-agree = at (is_var_scope k) refl
        where
          at : (b : Bool) → is_var_scope k ≡ b → AgreeOn n (if b then within_vars p.parameters (var_frame roles fs) (around p k roles fs) else around p k roles fs) (if b then within_vars q.parameters (var_frame roles gs) (around q k roles gs) else around q k roles gs)
          at true e = agree-vars n p.parameters q.parameters (var_frame roles fs) (var_frame roles gs) (around p k roles fs) (around q k roles gs) (ps e).used (hoisted-used c n (var_frame roles fs) (var_frame roles gs) h.hoisted) around-agrees
          at false e = around-agrees

      inner-agrees : AgreeOn n (inner p k l roles fs) (inner q k l roles gs)
      inner-agrees = agree-within n (frame k l roles fs) (frame k l roles gs) (vars_in p k roles fs) (vars_in q k roles gs) (some-used c n is_in (frame k l roles fs) (frame k l roles gs) frame-some) vars-agree

      hoists-agree : (v : Bool) → is_var_scope k ≡ v → AgreeOn n (if v then hoisting p k l roles fs else p.hoist) (if v then hoisting q k l roles gs else q.hoist)
      hoists-agree true e = λ y u i. if (ps e).used y u i then around-agrees y u i else inner-agrees y u i
      hoists-agree false e = a.hoist

      places-agree : (i : ℕ) → Agree n (place_in p k l roles fs i) (place_in q k l roles gs i)
      places-agree i = record {
        scope = agree-if n (has_scope k && is_inside k i) (inner p k l roles fs) (inner q k l roles gs) (around p k roles fs) (around q k roles gs) inner-agrees around-agrees;
        hoist = hoists-agree (is_var_scope k) refl;
      }

      same-parameters : (i : ℕ) → SameParameters c n (place_in p k l roles fs i) (place_in q k l roles gs i)
      same-parameters i = record { used = at (is_function k); new = λ b. new (is_function k) b }
        where
          at : (b : Bool) (y : Text) → n.in_use y ≡ true → (if b then bound_by (frame k l roles gs) else no_name) y ≡ (if b then bound_by (frame k l roles fs) else no_name) y
          at true y u = ap (λ z. is_some z) (some-used c n is_in (frame k l roles fs) (frame k l roles gs) frame-some y u)
          at false y u = refl

          new : (b : Bool) → (c ≡ lexed → ⊥) → (y : Text) (o : Option ℕ) → sought n.given y ≡ Some o → (if b then bound_by (frame k l roles gs) else no_name) y ≡ false
          new true f y o e = ap (λ z. is_some z) (frame-lacks (λ d. absurd (f d)) y o e)
          new false f y o e = refl

      by-parameters : (v : Bool) (y : Text) (o a b : Option ℕ) → q.parameters y ≡ v → (v ≡ true → a ≡ o) → b ≡ o → (if v then a else b) ≡ o
      by-parameters true y o a b e f g = f refl
      by-parameters false y o a b e f g = g

      -- where the scope of the node has the new names, or those around it
      place-sees : (c ≡ lexed → is_in ≡ false) → SeesOn n (vars_in q k roles gs) → (is_var_scope k ≡ true → (y : Text) (o : Option ℕ) → sought n.given y ≡ Some o → q.parameters y ≡ true → around q k roles gs y ≡ o) → ((i : ℕ) → (has_scope k && is_inside k i) ≡ false → SeesOn n q.scope) → (is_var_scope k ≡ false → SeesOn n q.hoist) → (i : ℕ) → Sees n (place_in q k l roles gs i)
      place-sees none s far out hoist i =
          let into : SeesOn n (inner q k l roles gs) = into-sees none s in
          record {
            scope = sees-if n (has_scope k && is_inside k i) (inner q k l roles gs) (around q k roles gs) into (λ e. around-sees (out i e));
            hoist = at (is_var_scope k) refl into;
          }
        where
          at : (v : Bool) → is_var_scope k ≡ v → SeesOn n (inner q k l roles gs) → SeesOn n (if v then hoisting q k l roles gs else q.hoist)
          at true e into = λ y o g. by-parameters (q.parameters y) y o (around q k roles gs y) (inner q k l roles gs y) refl (far e y o g) (into y o g)
          at false e into = hoist e

  lexed-new : (e : c ≡ lexed) → is_in ≡ true → (y : Text) (o : Option ℕ) → sought n.given y ≡ Some o → sought (frame k l roles gs) y ≡ Some o
  lexed-new e d y o g = at c e is_in d frame-some
    where
      at : (c : Change) → c ≡ lexed → (b : Bool) → b ≡ true → LexicalIn c n b (frame k l roles fs) (frame k l roles gs) → sought (frame k l roles gs) y ≡ Some o
      at above e b d f = absurd (cc e)
      at below e b d f = absurd (cc e)
      at lexed e true d f = f.new y o g
      at lexed e false d f = absurd (cc d)
      at sealed e b d f = absurd (cc e)

  lexed-sees : (q : Place) → c ≡ lexed → SeesIf (closing lexed (is_var_scope k) (reaches_out false k h.spot)) n q → SeesOn n (place_in q k l roles gs h.spot).scope
  lexed-sees q e s = at (has_scope k && is_inside k h.spot) refl s
    where
      at : (b : Bool) → (has_scope k && is_inside k h.spot) ≡ b → SeesIf (closing lexed (is_var_scope k) (not b)) n q → SeesOn n (if b then inner q k l roles gs else around q k roles gs)
      at true d s y o g = ap (λ z. or_around z (vars_in q k roles gs y)) (lexed-new e (and-second (has_scope k) is_in d) y o g)
      at false d s y o g = sees-within n (name_frame k roles gs) q.scope (name-lacks-by k) s y o g

  not-lexed : c ≡ above → c ≡ lexed → is_in ≡ false
  not-lexed e d = absurd (cc (e, d))

  not-lexed-below : c ≡ below → c ≡ lexed → is_in ≡ false
  not-lexed-below e d = absurd (cc (e, d))

  places-see : (p q : Place) → Agree n p q → (is_var_scope k ≡ true → SameParameters c n p q) → SeesIf (closing c (is_var_scope k) (reaches_out false k h.spot)) n q → SeesIn c n h.spot (place_in q k l roles gs)
  places-see p q a ps s = at c refl s
    where
      at : (d : Change) → c ≡ d → SeesIf (closing d (is_var_scope k) (reaches_out false k h.spot)) n q → SeesIn d n h.spot (place_in q k l roles gs)
      at above e s = place-sees p q a ps (not-lexed e) (vars-see p q a (λ d f. absurd (cc (e, d))) s.scope) (λ d y o g f. around-sees p q a s.scope y o g) (λ i d. s.scope) (λ d. s.hoist)
      at sealed e s = tt
      at lexed e s = lexed-sees q e s
      at below e s = by-var (is_var_scope k) refl s
        where
          by-var : (v : Bool) → is_var_scope k ≡ v → SeesIf (closing below v (reaches_out false k h.spot)) n q → (j : ℕ) → Sees n (place_in q k l roles gs j)
          by-var false d s = place-sees p q a ps (not-lexed-below e) (vars-see p q a (λ f g. absurd (cc (d, g))) s.scope) (λ f. absurd (cc (d, f))) (λ i f. s.scope) (λ f. s.hoist)
          by-var true d s = place-sees p q a ps (not-lexed-below e) (subst (λ (v : Bool). SeesOn n (if v then within_vars q.parameters (var_frame roles gs) (around q k roles gs) else around q k roles gs)) (sym d) (sees-new n q.parameters (var_frame roles gs) (around q k roles gs) ((ps d).new (λ f. absurd (cc (e, f)))) (below-new h.hoisted))) (λ f y o g t. absurd (not-both (q.parameters y) ((ps d).new (λ f. absurd (cc (e, f))) y o g) t)) (λ j f. absurd (cc (var-inside k j d, f))) (λ f. absurd (cc (d, f)))
            where
              below-new : Hoisted c n (var_frame roles fs) (var_frame roles gs) → (y : Text) (o : Option ℕ) → sought n.given y ≡ Some o → sought (var_frame roles gs) y ≡ Some o
              below-new hh = (subst (λ (z : Change). Hoisted z n (var_frame roles fs) (var_frame roles gs)) e hh).new

  -- HOW MANY SCOPES BIND A SYMBOL

  params-agree : (y : Text) → n.in_use y ≡ true → parameters_in k l roles gs y ≡ parameters_in k l roles fs y
  params-agree y u = at (is_function k)
    where
      at : (b : Bool) → (if b then bound_by (frame k l roles gs) else no_name) y ≡ (if b then bound_by (frame k l roles fs) else no_name) y
      at true = ap (λ z. is_some z) (some-used c n is_in (frame k l roles fs) (frame k l roles gs) frame-some y u)
      at false = refl

  module _ (s : ℕ) (ps : Text → Bool) where
    sum-same : (a b d a' b' d' : ℕ) → a ≡ a' → b ≡ b' → d ≡ d' → a + b + d ≡ a' + b' + d'
    sum-same a b d a' b' d' e f g = omega arith

    own-same : Each (λ d. is_it s d ≡ false) n.given → own_binds s ps k l roles gs ≡ own_binds s ps k l roles fs
    own-same out = λ j. if has_scope k then some-any c n is_in (is_it s) (frame k l roles fs) (frame k l roles gs) frame-some out j || (if is_var_scope k then hoisted-any c n (is_var_of s ps) (var_frame roles fs) (var_frame roles gs) h.hoisted (no-var s ps n.given out) j else false) else false

    old-scopes : s < n.free → node_scopes s ps k l roles gs ≡ node_scopes s ps k l roles fs
    old-scopes old =
        sum-same (one_if (binds s (name_frame k roles gs))) (one_if (own_binds s ps k l roles gs)) (scopes_in s (parameters_in k l roles gs) roles gs) (one_if (binds s (name_frame k roles fs))) (one_if (own_binds s ps k l roles fs)) (scopes_in s (parameters_in k l roles fs) roles fs)
        (λ j. one_if (binds s (name-same j)))
        (λ j. one_if (own-same (given-out n s old) j))
        (h.scopes s (parameters_in k l roles gs) old ∙ alike-scopes-in n.in_use n.free s (parameters_in k l roles fs) (parameters_in k l roles gs) params-agree roles fs used)

    none-before : n.free ≤ s → one_if (own_binds s ps k l roles fs) ≡ 0
    none-before high = ap one_if (own-none n.in_use n.free s high ps k l roles fs own.1 used)

    frame-none : n.free ≤ s → binds s (frame k l roles fs) ≡ false
    frame-none high = frame-any n.in_use n.free (is_it s) (it-out n.in_use n.free s high) k l roles fs own.1 used

    vars-none : n.free ≤ s → list_any (is_var_of s ps) (var_frame roles fs) ≡ false
    vars-none high = any-in n.in_use n.free (is_var_of s ps) (var-out n.in_use n.free s high ps) true every roles fs used

    frame-closed : n.free ≤ s → (c ≡ lexed → is_in ≡ false) → binds s (frame k l roles gs) ≡ false
    frame-closed high none = ap (λ bs. binds s bs) (some-equal c n is_in (frame k l roles fs) (frame k l roles gs) frame-some none) ∙ frame-none high

    vars-closed : n.free ≤ s → (c ≡ below → ⊥) → list_any (is_var_of s ps) (var_frame roles gs) ≡ false
    vars-closed high none = at c none h.hoisted
      where
        at : (d : Change) → (d ≡ below → ⊥) → Hoisted d n (var_frame roles fs) (var_frame roles gs) → list_any (is_var_of s ps) (var_frame roles gs) ≡ false
        at above none e = ap (λ bs. list_any (is_var_of s ps) bs) e ∙ vars-none high
        at below none e = absurd (none refl)
        at lexed none e = ap (λ bs. list_any (is_var_of s ps) bs) e ∙ vars-none high
        at sealed none e = ap (λ bs. list_any (is_var_of s ps) bs) e ∙ vars-none high

    -- where the scope of the node takes no new name
    own-closed : n.free ≤ s → (c ≡ lexed → (has_scope k && is_in) ≡ false) → (c ≡ below → is_var_scope k ≡ false) → one_if (own_binds s ps k l roles gs) ≡ 0
    own-closed high none novar = ap one_if (at (has_scope k) refl)
      where
        vars-at : (v : Bool) → is_var_scope k ≡ v → (if v then list_any (is_var_of s ps) (var_frame roles gs) else false) ≡ false
        vars-at true e = vars-closed high (λ d. absurd (cc (novar d, e)))
        vars-at false e = refl

        at : (b : Bool) → has_scope k ≡ b → (if b then binds s (frame k l roles gs) || (if is_var_scope k then list_any (is_var_of s ps) (var_frame roles gs) else false) else false) ≡ false
        at true e = neither (binds s (frame k l roles gs)) (if is_var_scope k then list_any (is_var_of s ps) (var_frame roles gs) else false) (frame-closed high (λ d. and-false (has_scope k) is_in e (none d))) (vars-at (is_var_scope k) refl)
        at false e = refl

    at-most-one : (b : Bool) (d : ℕ) → d ≤ 0 → one_if b + d ≤ 1
    at-most-one true d few = omega arith
    at-most-one false d few = omega arith

    new-given : n.free ≤ s → (d : ℕ) → d ≤ few c → one_if (own_binds s ps k l roles gs) + d ≤ few (closing c (is_var_scope k) (reaches_out false k h.spot))
    new-given high d less = at c refl less
      where
        at : (e : Change) → c ≡ e → d ≤ few e → one_if (own_binds s ps k l roles gs) + d ≤ few (closing e (is_var_scope k) (reaches_out false k h.spot))
        at above e less = let z = own-closed high (λ f. absurd (cc (e, f))) (λ f. absurd (cc (e, f))) in omega arith
        at sealed e less = let z = own-closed high (λ f. absurd (cc (e, f))) (λ f. absurd (cc (e, f))) in omega arith
        at below e less = by-var (is_var_scope k) refl
          where
            by-var : (v : Bool) → is_var_scope k ≡ v → one_if (own_binds s ps k l roles gs) + d ≤ few (closing below v (reaches_out false k h.spot))
            by-var true f = at-most-one (own_binds s ps k l roles gs) d less
            by-var false f = let z = own-closed high (λ g. absurd (cc (e, g))) (λ g. f) in omega arith
        at lexed e less = by-out (has_scope k && is_inside k h.spot) refl
          where
            by-out : (b : Bool) → (has_scope k && is_inside k h.spot) ≡ b → one_if (own_binds s ps k l roles gs) + d ≤ few (closing lexed (is_var_scope k) (not b))
            by-out true f = at-most-one (own_binds s ps k l roles gs) d less
            by-out false f = let z = own-closed high (λ g. f) (λ g. absurd (cc (e, g))) in omega arith

    new-scopes : n.free ≤ s → node_scopes s ps k l roles gs ≤ limit (closing c (is_var_scope k) (reaches_out false k h.spot)) n s
    new-scopes high = at (binds s n.given) refl (h.new_scopes s (parameters_in k l roles gs) high)
      where
        named : one_if (binds s (name_frame k roles gs)) ≡ 0
        named = (λ j. one_if (binds s (name-same j))) ∙ ap one_if (name-any n.in_use n.free (is_it s) (it-out n.in_use n.free s high) k roles fs used)

        at : (b : Bool) → binds s n.given ≡ b → scopes_in s (parameters_in k l roles gs) roles gs ≤ (if b then few c else 1) → node_scopes s ps k l roles gs ≤ (if b then few (closing c (is_var_scope k) (reaches_out false k h.spot)) else 1)
        at true e less = let z = new-given high (scopes_in s (parameters_in k l roles gs) roles gs) less in let m = named in omega arith
        at false e less = let z = ap one_if (own-same (unbound-it s n.given e)) ∙ none-before high in let m = named in omega arith

  pub node-kept : NodeKept n b (closing c (is_var_scope k) (reaches_out false k h.spot)) r k l fs gs roles roles
  node-kept = record {
    lexical = closed-lexical c (is_var_scope k) (reaches_out false k h.spot) n (own_declared false r k l ++ declared_in false (reaches_out false k) roles fs) (own_declared false r k l ++ declared_in false (reaches_out false k) roles gs) (some-right c n (reaches_out false k h.spot) (own_declared false r k l) (declared_in false (reaches_out false k) roles fs) (declared_in false (reaches_out false k) roles gs) (λ y o e. own_free n.in_use n.free y (n.fresh y o e) false r k l own.0) (h.lexical (reaches_out false k)));
    hoisted = closed-hoisted c (is_var_scope k) (reaches_out false k h.spot) n roles (own_declared true r k l) fs gs (λ y o e. own_free n.in_use n.free y (n.fresh y o e) true r k l own.0) h.hoisted;
    named = (own-more n.in_use n.in_use_after n.more n.free n.free_after n.freer r k l own, h.named);
    scopes = λ s ps e. old-scopes s ps e;
    new_scopes = λ s ps e. new-scopes s ps e;
    resolved = λ p q a ps s v d. (own-right n p q a r k l own.0 d.0, subst (λ bs. IsMarked bs) (sym class-same) d.1, h.resolved (place_in p k l roles fs) (place_in q k l roles gs) (places-agree p q a (λ e. closed-params ps e)) (same-parameters p q a (λ e. closed-params ps e)) (places-see p q a (λ e. closed-params ps e) s) (looks-in b p k l roles fs v) d.2);
  }
    where
      closed-params : {p q : Place} → (is_var_scope k ≡ true → SameParameters (closing c (is_var_scope k) (reaches_out false k h.spot)) n p q) → is_var_scope k ≡ true → SameParameters c n p q
      closed-params ps e = record { used = (ps e).used; new = λ none. (ps e).new (λ f. none (still-lexed c (is_var_scope k) (reaches_out false k h.spot) f)) }

never-open : (c : Change) (v out : Bool) → v ≡ true → (out ≡ false) → (closing c v out ≡ below → ⊥) × (closing c v out ≡ lexed → ⊥)
never-open above v out e d = (λ f. absurd (cc f), λ f. absurd (cc f))
never-open below true out e d = (λ f. absurd (cc f), λ f. absurd (cc f))
never-open below false out e d = absurd (cc e)
never-open lexed v true e d = absurd (cc d)
never-open lexed v false e d = (λ f. absurd (cc f), λ f. absurd (cc f))
never-open sealed v out e d = (λ f. absurd (cc f), λ f. absurd (cc f))

as-kept : (n : Known) (b : Place) (c : Change) (r : Role) (k : AstType) (l : Label) (fs gs : Fields) → (is_var_scope k ≡ true → (c ≡ below → ⊥) × (c ≡ lexed → ⊥)) → NodeKept n b c r k l fs gs (role_at r k l fs) (role_at r k l gs) → Kept n b c r (node k l fs) (node k l gs)
as-kept n b c r k l fs gs top h = record { kind = refl; top = top; own = refl; lexical = h.lexical; hoisted = h.hoisted; named = h.named; scopes = h.scopes; new_scopes = h.new_scopes; resolved = h.resolved }

-- a node keeps what its fields keep
pub kept-node : (n : Known) (b : Place) (c : Change) (r : Role) (k : AstType) (l : Label) (fs gs : Fields) → OwnUsed n.in_use r k l × IsBelow n.free (symbol_of l) → NamedIn n.in_use n.free (role_at r k l fs) fs → (h : KeptIn n (place_in b k l (role_at r k l fs) fs) c (role_at r k l fs) fs gs) → Kept n b (closing c (is_var_scope k) (reaches_out false k h.spot)) r (node k l fs) (node k l gs)
kept-node n b c r k l fs gs own used h = as-kept n b (closing c (is_var_scope k) (reaches_out false k h.spot)) r k l fs gs (λ e. never-open c (is_var_scope k) (reaches_out false k h.spot) e (ap (λ z. not z) (var-inside k h.spot e))) (subst (λ (rg : ℕ → Role). NodeKept n b (closing c (is_var_scope k) (reaches_out false k h.spot)) r k l fs gs (role_at r k l fs) rg) (sym (role-same r k l fs gs h.shape)) (node-kept n b c r k l (role_at r k l fs) fs gs h own used))
