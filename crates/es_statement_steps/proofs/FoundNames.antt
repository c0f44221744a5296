-- What a name finds from a place by look-up (ECMA-262, 9.1.2.1) is bound there in the machine of statements, and a name that finds nothing is free: at
-- the top of a program, and from each node inwards.
use Rattle.std.proofs.Common.{◌≡◌, ℕ, zero, suc, refl, sym, ap, ◌∙◌, List, [], ◌∷◌, ◌++◌}
use Rattle.std.proofs.lemmas.Bool.{and_parts, and_from}
use Rattle.std.proofs.lemmas.Slice.Eq.{bytes_eq-Decides}
use Rattle.std.specs.List.{list_all}
use Rattle.std.specs.Prelude.{Bool, true, false, not, ◌&&◌, ◌||◌, Option, Some, None, is_some, bytes_eq, codes, if◌then◌else◌}
use Rattle.es_tree.specs.Names.{first_text}
use Rattle.es_tree.specs.Scopes.{Declared, declares}
use Rattle.es_tree.specs.Tree.{Tree, node, Label, Fields, done, ◌then◌, Field, missing, one, many, statements, Trees, empty, ◌before◌}
use Rattle.es_tree.specs.Walks.{all_nodes}
use Rattle.es_tree.specs.Words.{Text}
use Rattle.es_tree.specs.declared.ast_type.AstType.{AstType}
use Rattle.es_tree.specs.declared.ast_type.AstType.TheVariants.{Program, StaticBlock, FunctionDeclaration, FunctionExpression, FunctionBody, ArrowFunctionExpression, ClassDeclaration, ClassExpression, SwitchStatement, Identifier}
use Rattle.es_runs.specs.Core.{Binding, Silent, World, is_free}
use Rattle.es_runs.specs.Core.Binding.{changeable, constant}
use Rattle.es_runs.specs.Machine.{Value}
use Rattle.es_runs.specs.Runs.{binding_of, is_declared, scope_of}
use Rattle.es_semantic.specs.Places.{is_inside, makes_scope}
use Rattle.es_semantic.specs.RolesOf.{reads, role_at}
use Rattle.es_semantic.specs.declared.place.Role.{Role}
use Rattle.es_semantic.specs.declared.place.Role.TheVariants.{Binds}
use Rattle.es_resolution.specs.Declarations.{Bound, declared, declared_among, declared_by, declared_in, is_asked, own_declared, reaches_out, sought, symbol_of}
use Rattle.es_resolution.specs.Resolved.{OwnRight, Place, Resolved, ResolvedAll, ResolvedBy, ResolvedIn, bound_by, frame, has_symbol, nowhere, or_around, place_in, var_frame, within}
use Rattle.es_statement_runs.specs.BareVars.{names_around}
use Rattle.es_statement_runs.specs.Helpers.{Supply, entry, silent_names}
use Rattle.es_statement_runs.specs.Kinds.{found, kind_in}
use Rattle.es_statement_runs.specs.Names.{declared_at_top, own_names, tops}
use Rattle.es_statement_runs.specs.Programs.{is_statement_kind}
use Rattle.es_statement_runs.specs.Runs.{program_world, silent_or}
use Rattle.es_statement_steps.proofs.Below.{Below, BelowField, BelowTrees, both_below, map_below, parts_of}
use Rattle.es_statement_steps.proofs.DeclaredNames.{declares_append}
use Rattle.es_statement_steps.proofs.ScopeNames.{scope_names}
use Rattle.es_statement_steps.proofs.Stands.{is_program, standing, stands}
use Rattle.es_statement_steps.proofs.TopNames.{program_names}

-- WHAT HOLDS OF ALL THAT IS DECLARED

module _ (q : Bound → Bool) where
  all_append : (bs cs : List Bound) → list_all q bs ≡ true → list_all q cs ≡ true → list_all q (bs ++ cs) ≡ true
  all_append [] cs h g = g
  all_append (b ∷ bs) cs h g = let d = and_parts (q b) (list_all q bs) h in and_from (q b) (list_all q (bs ++ cs)) d.0 (all_append bs cs d.1 g)

  pub all_if : (c : Bool) (bs : List Bound) → list_all q bs ≡ true → list_all q (if c then bs else []) ≡ true
  all_if true bs h = h
  all_if false bs h = refl

  module _ (v : Bool) where
    all_among : (r : Role) (ts : Trees) → BelowTrees (λ t. list_all q (declared v r t) ≡ true) ts → list_all q (declared_among v r ts) ≡ true
    all_among r empty h = refl
    all_among r (t before ts) h = all_append (declared v r t) (declared_among v r ts) h.0 (all_among r ts h.1)

    all_by : (r : Role) (f : Field) → BelowField (λ t. list_all q (declared v r t) ≡ true) f → list_all q (declared_by v r f) ≡ true
    all_by r missing h = refl
    all_by r (one t) h = h
    all_by r (many ts) h = all_among r ts h
    all_by r (statements ts) h = all_among r ts h

    pub all_declared : (counts : ℕ → Bool) (roles : ℕ → Role) (fs : Fields) → Below (λ i t. list_all q (declared v (roles i) t) ≡ true) fs → list_all q (declared_in v counts roles fs) ≡ true
    all_declared counts roles done h = refl
    all_declared counts roles (f then fs) h =
        all_append (if counts zero then declared_by v (roles zero) f else []) (declared_in v (λ i. counts (suc i)) (λ i. roles (suc i)) fs)
        (all_if (counts zero) (declared_by v (roles zero) f) (all_by (roles zero) f h.0)) (all_declared (λ i. counts (suc i)) (λ i. roles (suc i)) fs h.1)

    pub all_of_node : (r : Role) (k : AstType) (l : Label) (fs : Fields) → list_all q (own_declared v r k l) ≡ true → list_all q (declared_in v (reaches_out v k) (role_at r k l fs) fs) ≡ true → list_all q (declared v r (node k l fs)) ≡ true
    all_of_node r k l fs h g = all_append (own_declared v r k l) (declared_in v (reaches_out v k) (role_at r k l fs) fs) h g

-- IN A RESOLVED TREE each declared name has a symbol

resolved_trees : (r : Role) (p : Place) (ts : Trees) → ResolvedAll r p ts → BelowTrees (λ t. Resolved r p t) ts
resolved_trees r p empty h = tt
resolved_trees r p (t before ts) h = (h.0, resolved_trees r p ts h.1)

resolved_field : (r : Role) (p : Place) (f : Field) → ResolvedBy r p f → BelowField (λ t. Resolved r p t) f
resolved_field r p missing h = tt
resolved_field r p (one t) h = h
resolved_field r p (many ts) h = resolved_trees r p ts h
resolved_field r p (statements ts) h = resolved_trees r p ts h

pub resolved_below : (roles : ℕ → Role) (places : ℕ → Place) (fs : Fields) → ResolvedIn roles places fs → Below (λ i t. Resolved (roles i) (places i) t) fs
resolved_below roles places done h = tt
resolved_below roles places (f then fs) h = (resolved_field (roles zero) (places zero) f h.0, resolved_below (λ i. roles (suc i)) (λ i. places (suc i)) fs h.1)

own_marked : (v : Bool) (r : Role) (p : Place) (k : AstType) (l : Label) → OwnRight p r k l → list_all has_symbol (own_declared v r k l) ≡ true
own_marked v (Binds b) p Identifier l h = all_if has_symbol (is_asked v (Binds b)) (record { name = first_text l.texts; symbol = symbol_of l } ∷ []) (and_from (is_some (symbol_of l)) true h.1 refl)
own_marked v _ p Identifier l h = refl
own_marked v r p _ l h = refl

abbrev Marked : Tree → Type 0
Marked t = (v : Bool) (r : Role) (p : Place) → Resolved r p t → list_all has_symbol (declared v r t) ≡ true

-- what is known of the trees in fields by induction, in resolved fields
fields_marked : (v : Bool) (counts : ℕ → Bool) (roles : ℕ → Role) (places : ℕ → Place) (fs : Fields) → Below (λ i. Marked) fs → ResolvedIn roles places fs → list_all has_symbol (declared_in v counts roles fs) ≡ true
fields_marked v counts roles places fs below h = all_declared has_symbol v counts roles fs
    (map_below (λ i t. Marked t × Resolved (roles i) (places i) t) (λ i t. list_all has_symbol (declared v (roles i) t) ≡ true) (λ i t d. d.0 v (roles i) (places i) d.1) fs (both_below (λ i. Marked) (λ i t. Resolved (roles i) (places i) t) fs below (resolved_below roles places fs h)))

marked_at : (k : AstType) (l : Label) (fs : Fields) → Below (λ i. Marked) fs → Marked (node k l fs)
marked_at k l fs below v r p h =
    all_of_node has_symbol v r k l fs (own_marked v r p k l h.0) (fields_marked v (reaches_out v k) (role_at r k l fs) (place_in p k l (role_at r k l fs) fs) fs below h.2)

pub declared_marked : (v : Bool) (counts : ℕ → Bool) (roles : ℕ → Role) (places : ℕ → Place) (fs : Fields) → ResolvedIn roles places fs → list_all has_symbol (declared_in v counts roles fs) ≡ true
declared_marked v counts roles places fs h = fields_marked v counts roles places fs (parts_of Marked marked_at fs) h

-- LOOK-UP

-- a scope more around, whose names have symbols
within_some : (bs : List Bound) (f : Text → Option ℕ) (x : Text) → list_all has_symbol bs ≡ true → is_some (within bs f x) ≡ (bound_by bs x || is_some (f x))
within_some [] f x h = refl
within_some (b ∷ bs) f x h =
    let d = and_parts (has_symbol b) (list_all has_symbol bs) h in
    at (bytes_eq b.name x) b.symbol (sought bs x) d.0 (within_some bs f x d.1)
  where
    at : (c : Bool) (s : Option ℕ) (o : Option (Option ℕ)) → is_some s ≡ true → is_some (or_around o (f x)) ≡ (is_some o || is_some (f x)) → is_some (or_around (if c then Some s else o) (f x)) ≡ (is_some (if c then Some s else o) || is_some (f x))
    at true s o e g = e
    at false s o e g = g

-- the scope of what stands in a field of a node of the class
pub scope_at : (p : Place) (k : AstType) (l : Label) (roles : ℕ → Role) (fs : Fields) (i : ℕ) → is_statement_kind k ≡ true → is_program k ≡ false →
    (place_in p k l roles fs i).scope ≡ (if makes_scope k && is_inside k i then within (declared_in false (is_inside k) roles fs) p.scope else p.scope)
scope_at p Program l roles fs i c n = absurd (cc n)
scope_at p StaticBlock l roles fs i c n = absurd (cc c)
scope_at p FunctionDeclaration l roles fs i c n = absurd (cc c)
scope_at p FunctionExpression l roles fs i c n = absurd (cc c)
scope_at p FunctionBody l roles fs i c n = absurd (cc c)
scope_at p ArrowFunctionExpression l roles fs i c n = absurd (cc c)
scope_at p ClassDeclaration l roles fs i c n = absurd (cc c)
scope_at p ClassExpression l roles fs i c n = absurd (cc c)
scope_at p _ l roles fs i c n = refl

-- THE NAMES AROUND A PLACE: those that the scopes around it declare, the innermost first

around_is : (ds es : List Declared) (k : AstType) (i : ℕ) → is_statement_kind k ≡ true → is_program k ≡ false → names_around k es ds i ≡ (if makes_scope k && is_inside k i then es ++ ds else ds)
around_is ds es Program i c n = absurd (cc n)
around_is ds es SwitchStatement zero c n = refl
around_is ds es SwitchStatement (suc i) c n = refl
around_is ds es StaticBlock i c n = absurd (cc c)
around_is ds es FunctionDeclaration i c n = absurd (cc c)
around_is ds es FunctionExpression i c n = absurd (cc c)
around_is ds es FunctionBody i c n = absurd (cc c)
around_is ds es ArrowFunctionExpression i c n = absurd (cc c)
around_is ds es ClassDeclaration i c n = absurd (cc c)
around_is ds es ClassExpression i c n = absurd (cc c)
around_is ds es _ i c n = refl

-- look-up finds a symbol for these names alone
abbrev pub Finds : List Declared → Place → Type 0
Finds ds p = (x : Text) → is_some (p.scope x) ≡ declares ds x

-- these names alone are bound in the machine
abbrev pub Bounds : List Declared → World → Type 0
Bounds ds w = (x : Text) → is_free (w.scope x) ≡ not (declares ds x)

pub finds_inside : (ds : List Declared) (p : Place) (r : Role) (k : AstType) (l : Label) (fs : Fields) (i : ℕ) → Finds ds p → is_program k ≡ false → all_nodes stands (node k l fs) ≡ true → ResolvedIn (role_at r k l fs) (place_in p k l (role_at r k l fs) fs) fs →
    Finds (names_around k (own_names k fs) ds i) (place_in p k l (role_at r k l fs) fs i)
finds_inside ds p r k l fs i known n h resolved x =
    let marks = declared_marked false (is_inside k) (role_at r k l fs) (place_in p k l (role_at r k l fs) fs) fs resolved in
    ap (λ (f : Text → Option ℕ). is_some (f x)) (scope_at p k l (role_at r k l fs) fs i (standing k l fs h).class n)
    ∙ at (makes_scope k && is_inside k i) (λ e. within_some (declared_in false (is_inside k) (role_at r k l fs) fs) p.scope x marks ∙ (λ j. scope_names x r k l fs (and_parts (makes_scope k) (is_inside k i) e).0 h j || known x j) ∙ sym (declares_append x (own_names k fs) ds))
    ∙ sym (ap (λ es. declares es x) (around_is ds (own_names k fs) k i (standing k l fs h).class n))
  where
    at : (b : Bool) → (b ≡ true → is_some (within (declared_in false (is_inside k) (role_at r k l fs) fs) p.scope x) ≡ declares (own_names k fs ++ ds) x) →
        is_some ((if b then within (declared_in false (is_inside k) (role_at r k l fs) fs) p.scope else p.scope) x) ≡ declares (if b then own_names k fs ++ ds else ds) x
    at true e = e refl
    at false e = known x

-- at the top of a program
pub finds_top : (l : Label) (fs : Fields) (i : ℕ) → all_nodes stands (node Program l fs) ≡ true → Resolved reads nowhere (node Program l fs) → Finds (tops fs) (place_in nowhere Program l (role_at reads Program l fs) fs i)
finds_top l fs i h resolved x =
    let roles = role_at reads Program l fs in
    let places = place_in nowhere Program l roles fs in
    let vars : List Bound = var_frame roles fs in
    let others : List Bound = frame Program l roles fs in
    within_some others (within vars (λ y. None)) x (declared_marked false (is_inside Program) roles places fs resolved.2)
    ∙ ap (λ b. bound_by others x || b) (within_some vars (λ y. None) x (declared_marked true (λ n. true) roles places fs resolved.2) ∙ or_none (bound_by vars x))
    ∙ program_names x l fs h
  where
    or_none : (b : Bool) → (b || false) ≡ b
    or_none true = refl
    or_none false = refl

-- THE MACHINE

pub bytes_turned : (a b : Text) → bytes_eq a b ≡ bytes_eq b a
bytes_turned a b = at (bytes_eq a b) (bytes_eq b a) refl refl
  where
    at : (c d : Bool) → bytes_eq a b ≡ c → bytes_eq b a ≡ d → c ≡ d
    at true true e g = refl
    at false false e g = refl
    at true false e g = absurd (let same : a ≡ b = (bytes_eq-Decides a b).0 e in let yes : bytes_eq b a ≡ true = (bytes_eq-Decides b a).1 (sym same) in cc (yes, g))
    at false true e g = absurd (let same : b ≡ a = (bytes_eq-Decides b a).0 g in let yes : bytes_eq a b ≡ true = (bytes_eq-Decides a b).1 (sym same) in cc (yes, e))

word_bound : (kind : Text) → is_free (binding_of kind) ≡ false
word_bound kind = at (bytes_eq kind (codes "const"))
  where
    at : (c : Bool) → is_free (if c then constant else changeable) ≡ false
    at true = refl
    at false = refl

-- a name more
one_free : (d : Declared) (x : Text) (b : Binding) (a : Bool) → is_free b ≡ not a → is_free (if bytes_eq x d.name then binding_of d.kind else b) ≡ not (bytes_eq d.name x || a)
one_free d x b a h = at (bytes_eq x d.name) (bytes_eq d.name x) (bytes_turned x d.name)
  where
    at : (c e : Bool) → c ≡ e → is_free (if c then binding_of d.kind else b) ≡ not (e || a)
    at true true g = word_bound d.kind
    at false false g = h
    at true false g = absurd (cc g)
    at false true g = absurd (cc g)

scope_free : (ds : List Declared) (x : Text) → is_free (scope_of ds x) ≡ not (declares ds x)
scope_free [] x = refl
scope_free (d ∷ ds) x = one_free d x (scope_of ds x) (declares ds x) (scope_free ds x)

-- a scope more
found_if : (c : Bool) (kind : Text) (o : Option Text) (x : Text) (f : Text → Binding) → found (if c then Some kind else o) x f x ≡ (if c then binding_of kind else found o x f x)
found_if true kind o x f = refl
found_if false kind o x f = refl

pub entered_free : (ds es : List Declared) (f : Text → Binding) (x : Text) → is_free (f x) ≡ not (declares es x) → is_free (found (kind_in ds x) x f x) ≡ not (declares (ds ++ es) x)
entered_free [] es f x h = h
entered_free (d ∷ ds) es f x h = ap is_free (found_if (bytes_eq x d.name) d.kind (kind_in ds x) x f) ∙ one_free d x (found (kind_in ds x) x f x) (declares (ds ++ es) x) (entered_free ds es f x h)

-- the names that the top of a program declares, as runs have them
pub declared_is : (ds : List Declared) (x : Text) → is_declared ds x ≡ declares ds x
declared_is ds x = ap not (scope_free ds x) ∙ twice (declares ds x)
  where
    twice : (b : Bool) → not (not b) ≡ b
    twice true = refl
    twice false = refl

-- the names that are used without a question are declared at the top
abbrev pub SilentDeclared : Supply → Tree → Type 0
SilentDeclared u t = (x : Text) → is_some (entry (silent_names u t) x) ≡ true → declares (declared_at_top t) x ≡ true

pub bounds_top : (u : Supply) (this : Value) (t : Tree) → SilentDeclared u t → Bounds (declared_at_top t) (program_world u this t)
bounds_top u this t silents x = at (entry (silent_names u t) x) (silents x)
  where
    at : (o : Option Silent) → (is_some o ≡ true → declares (declared_at_top t) x ≡ true) → is_free (silent_or o (scope_of (declared_at_top t) x)) ≡ not (declares (declared_at_top t) x)
    at None h = scope_free (declared_at_top t) x
    at (Some s) h = sym (ap not (h refl))

-- LOOK-UP AND THE MACHINE TOGETHER: from a place of a program, and at that of the machine, these names alone are bound

pub record Seen (ds : List Declared) (p : Place) (w : World) : Type 0 where
  pub found : Finds ds p
  pub bound : Bounds ds w
