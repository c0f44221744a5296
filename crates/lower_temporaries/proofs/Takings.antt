-- What a call adds where a node was lowered, put together, and as a change of the moment.
use Rattle.std.proofs.Common.{◌≡◌, ℕ, suc, ◌+◌, ◌-◌, ◌<◌, ◌==◌, ◌||◌, ◌&&◌, not, List, [], ◌∷◌, ◌++◌, length, Bool, true, false, if◌then◌else◌, bytes_eq, ltb, append-nil, append_assoc, length-append, refl, sym, ap, subst, ◌∙◌, arith, Option, Some, None}
use Rattle.std.proofs.lemmas.Bool.{eq-eqb, eqb-true}
use Rattle.es_tree.specs.Fresh.{also}
use Rattle.es_tree.specs.References.{is_symbol}
use Rattle.es_tree.specs.Words.{Text}
use Rattle.es_scope.specs.ContextSymbols.{called_of, free_symbol_of, steady_symbols_of}
use Rattle.es_scope.specs.Contexts.{Binds, KeepsNames, KeptBeside, MakesName, Refers, function_scoped, made_of, table_of, uses_of}
use Rattle.es_scope.specs.Tables.{called, is_mutated, is_steady, symbol_count}
use Rattle.es_scope.specs.declared.context.TraverseCtx.{TraverseCtx}
use Rattle.es_scope.specs.declared.context_names.BoundIdentifier.{BoundIdentifier}
use Rattle.es_scope.specs.declared.flags.ReferenceFlags.{ReferenceFlags}
use Rattle.es_scope.specs.declared.flags.SymbolFlags.{SymbolFlags}
use Rattle.es_scope.proofs.SymbolContexts.{SaysSame, called-bound, called-written, free-bound, free-written, steady-temporary, steady-written, symbols-read}
use Rattle.es_resolution.specs.Declarations.{Bound}
use Rattle.es_steps.specs.CoreBridge.{is_written_name}
use Rattle.es_steps.specs.Duplication.{is_among_symbols}
use Rattle.es_steps.specs.Open.{Pending, with_vars}
use Rattle.es_steps.specs.Rules.{also_all, calling, with_made}
use Rattle.es_steps.specs.Steps.{Whole}
use Rattle.es_steps.proofs.Numbered.{Numbered, numbered-old}
use Rattle.es_changes.specs.Moments.{Moment, whole_at}
use Rattle.es_traverse.specs.ContextMoments.{bound_names}
use Rattle.lower_temporaries.specs.Declarators.{bound_as}
use Rattle.lower_temporaries.specs.SeenTrees.{named}
use Rattle.lower_temporaries.specs.Stacks.{with_top}
use Rattle.lower_temporaries.specs.Takings.{ReadsMore, Takes, TakesBound, WritesOnce, moment_of, with_ids, writing}
use Rattle.lower_temporaries.specs.UidVars.{Declares, DeclaresVar}
use Rattle.lower_temporaries.specs.declared.state.TransformState.{TransformState}
use Rattle.lower_temporaries.proofs.Pairs.{with_no_names, with_vars_then}

-- WHAT A CALL KEEPS, CALL AFTER CALL

pub kept-then : {S : Type 0} {a b c : TraverseCtx S} → KeptBeside a b → KeptBeside b c → KeptBeside a c
kept-then g h = record { state = h.state ∙ g.state; options = h.options ∙ g.options; around = h.around ∙ g.around; scopes = h.scopes ∙ g.scopes; place = h.place ∙ g.place }

ids-then : (m n : ℕ) (a : Moment) → with_ids n (with_ids m a) ≡ with_ids (m + n) a
ids-then m n a = let e : a.next + m + n ≡ a.next + (m + n) = omega arith in λ i. record a { next = e i }

ids-none : (a : Moment) → with_ids 0 a ≡ a
ids-none a = let e : a.next + 0 ≡ a.next = omega arith in λ i. record a { next = e i }

pub reads-then : {m n : ℕ} {a b c : TraverseCtx TransformState} → ReadsMore m a b → ReadsMore n b c → ReadsMore (m + n) a c
reads-then {m} {n} {a} g h = record { moment_is = h.moment_is ∙ (ap (with_ids n) g.moment_is ∙ ids-then m n (moment_of a)); symbols = h.symbols ∙ g.symbols; kept = kept-then g.kept h.kept }

-- as many ids, counted in another way
pub reads-as : {old new : TraverseCtx TransformState} (m n : ℕ) → m ≡ n → ReadsMore m old new → ReadsMore n old new
reads-as {old} {new} m n e h = subst (λ (k : ℕ). ReadsMore k old new) e h

-- nothing at all
pub reads-none : (ctx : TraverseCtx TransformState) → ReadsMore 0 ctx ctx
reads-none ctx = record { moment_is = sym (ids-none (moment_of ctx)); symbols = refl; kept = record { state = refl; options = refl; around = refl; scopes = refl; place = refl } }

-- a table that says the same of all symbols
pub reads-said : (ids : ℕ) (old new : TraverseCtx TransformState) → SaysSame (table_of old) (table_of new) → new.ast.next ≡ old.ast.next + ids → KeepsNames old new → KeptBeside old new → ReadsMore ids old new
reads-said ids old new says next names kept = record {
  moment_is = λ i. record {
    in_use = λ x. is_written_name x || names.used x i;
    steady = λ n. says.steady n i;
    free_symbol = says.free i;
    called = λ n. says.names n i;
    made = bound_names (says.free i) (names.made_is i);
    next = next i;
    lists = (kept.state i).var_declarations;
    around = kept.around i;
    options = kept.options i;
  };
  symbols = says.free;
  kept = kept;
}

-- ids alone
pub reads-ids : (ids : ℕ) (old new : TraverseCtx TransformState) → new.ast.next ≡ old.ast.next + ids → table_of new ≡ table_of old → KeepsNames old new → KeptBeside old new → ReadsMore ids old new
reads-ids ids old new next table names kept = reads-said ids old new (record { free = ap symbol_count table; names = λ n. ap (λ s. called s n) table; steady = λ n. ap (λ s. is_steady s n) table }) next names kept

refers-next : {S : Type 0} (old new : TraverseCtx S) (symbol : Option ℕ) (flags : ReferenceFlags) → Refers old new symbol flags → new.ast.next ≡ old.ast.next + 1
refers-next old new symbol flags r = ap (λ a. a.next) r.ast

-- a reference that reads
pub reads-one : (old new : TraverseCtx TransformState) (symbol : Option ℕ) (flags : ReferenceFlags) → Refers old new symbol flags → flags.write ≡ false → ReadsMore 1 old new
reads-one old new symbol flags r reads = reads-said 1 old new (symbols-read old new symbol flags r reads) (refers-next old new symbol flags r) r.names r.kept

-- one that writes a symbol which isn't steady leaves all as it is
still-unsteady : (l m v : Bool) → (l && not m) ≡ false → (l && not (m || v)) ≡ false
still-unsteady true true v e = refl
still-unsteady true false v e = absurd (cc e)
still-unsteady false m v e = refl

symbols-unsteady : (old new : TraverseCtx TransformState) (symbol : Option ℕ) (flags : ReferenceFlags) → Refers old new symbol flags → is_among_symbols (steady_symbols_of old) symbol ≡ false → SaysSame (table_of old) (table_of new)
symbols-unsteady old new symbol flags r h = record {
  free = free-written old new symbol flags r;
  names = called-written old new symbol flags r;
  steady = λ n. at n (is_symbol n symbol) refl;
} where
  found : (n : ℕ) (o : Option ℕ) → is_symbol n o ≡ true → is_among_symbols (steady_symbols_of old) o ≡ steady_symbols_of old n
  found n None e = absurd (cc e)
  found n (Some m) e = ap (steady_symbols_of old) (eqb-true m n e)

  at : (n : ℕ) (b : Bool) → is_symbol n symbol ≡ b → steady_symbols_of new n ≡ steady_symbols_of old n
  at n false e = steady-written old new symbol flags r n e
  at n true e =
      let before : steady_symbols_of old n ≡ false = sym (found n symbol e) ∙ h in
      ap (λ k. ltb n k && not (is_mutated (table_of new) n)) r.table.symbols.count ∙
      (ap (λ b. ltb n (symbol_count (table_of old)) && not b) (r.table.mutated n) ∙ (still-unsteady (ltb n (symbol_count (table_of old))) (is_mutated (table_of old) n) _ before ∙ sym before))

pub writes-again : (old new : TraverseCtx TransformState) (symbol : Option ℕ) (flags : ReferenceFlags) → Refers old new symbol flags → is_among_symbols (steady_symbols_of old) symbol ≡ false → ReadsMore 1 old new
writes-again old new symbol flags r h = reads-said 1 old new (symbols-unsteady old new symbol flags r h) (refers-next old new symbol flags r) r.names r.kept

pub refers-one : (old new : TraverseCtx TransformState) (symbol : Option ℕ) (flags : ReferenceFlags) → Refers old new symbol flags → (flags.write ≡ true → is_among_symbols (steady_symbols_of old) symbol ≡ false) → ReadsMore 1 old new
refers-one old new symbol flags r h = at flags.write refl where
  at : (b : Bool) → flags.write ≡ b → ReadsMore 1 old new
  at true e = writes-again old new symbol flags r (h e)
  at false e = reads-one old new symbol flags r e

-- after it is written a symbol is not steady
pub written-unsteady : {S : Type 0} (old new : TraverseCtx S) (symbol : ℕ) (flags : ReferenceFlags) → Refers old new (Some symbol) flags → flags.write ≡ true → steady_symbols_of new symbol ≡ false
written-unsteady old new symbol flags r writes =
    let written : is_mutated (table_of new) symbol ≡ true = r.table.mutated symbol ∙ (ap (λ v. is_mutated (table_of old) symbol || (v && symbol == symbol)) writes ∙ (ap (λ v. is_mutated (table_of old) symbol || v) (eq-eqb symbol symbol refl) ∙ or-true (is_mutated (table_of old) symbol))) in
    ap (λ v. ltb symbol (symbol_count (table_of new)) && not v) written ∙ and-false (ltb symbol (symbol_count (table_of new)))
  where
    or-true : (b : Bool) → (b || true) ≡ true
    or-true true = refl
    or-true false = refl

    and-false : (b : Bool) → (b && false) ≡ false
    and-false true = refl
    and-false false = refl

-- and one that was declared before is of the table
pub written-known : (old mid new : TraverseCtx TransformState) (b : BoundIdentifier) (ps : List Pending) → Declares old mid b ps → Refers mid new (Some b.symbol_id.0) writing → b.symbol_id.0 < symbol_count (table_of new)
written-known old mid new b ps d r = omega (arith, r.table.symbols.count, d.binds.table.count, d.symbol)

-- THE MADE NAMES, by their place

pub names-more : (free : ℕ) (xs : List Text) (y : Text) → bound_names (free + 1) (xs ++ y ∷ []) ≡ bound_names free xs ++ named y (Some free) ∷ []
names-more free [] y = let e : free + 1 - 1 ≡ free = omega arith in λ i. named y (Some (e i)) ∷ []
names-more free (x ∷ xs) y =
    let n : length (xs ++ y ∷ []) ≡ length xs + 1 = length-append xs (y ∷ []) in
    let e : free + 1 - suc (length (xs ++ y ∷ [])) ≡ free - suc (length xs) = omega (arith, n) in
    λ i. named x (Some (e i)) ∷ names-more free xs y i

-- A NAME THAT IS DECLARED AND WRITTEN

-- the context before, with the builder and the state of the one after
abbrev pub beside : TraverseCtx TransformState → TraverseCtx TransformState → TraverseCtx TransformState
beside old new = record old { ast = new.ast; state = new.state }

pub declares-binds : (old new : TraverseCtx TransformState) (b : BoundIdentifier) (ps : List Pending) (d : Declares old new b ps) → Binds (beside old new) new d.binds.scope (bound_as b).name function_scoped
declares-binds old new b ps d = record {
  table = d.binds.table;
  ast = refl;
  kept = record { state = refl; options = d.options; around = d.around; scopes = d.scopes; place = d.place };
}

or-assoc : (a b c : Bool) → (a || (b || c)) ≡ ((a || b) || c)
or-assoc true b c = refl
or-assoc false b c = refl

-- A name that is made, bound in a scope and written is one more.
module _ (old mid written : TraverseCtx TransformState) (b : BoundIdentifier) (scope : ℕ) (flags : SymbolFlags) where
  whole-written : MakesName old mid (bound_as b).name → Binds (beside old mid) mid scope (bound_as b).name flags → b.symbol_id.0 ≡ symbol_count (table_of old) → Refers mid written (Some b.symbol_id.0) writing → whole_at (moment_of written) ≡ with_made (bound_as b ∷ []) (whole_at (moment_of old))
  whole-written makes binds symbol r =
      let x = (bound_as b).name in
      let free : free_symbol_of written ≡ free_symbol_of old + 1 = free-written mid written (Some b.symbol_id.0) writing r ∙ free-bound (beside old mid) mid scope x flags binds in
      let uses = λ (y : Text). ap (λ v. is_written_name y || v) (r.names.used y ∙ makes.used y) ∙ or-assoc (is_written_name y) (uses_of old y) (bytes_eq x y) in
      let steady = steady-temporary (beside old mid) mid written scope x flags b.symbol_id.0 writing binds symbol r refl in
      let names = λ (n : ℕ). called-written mid written (Some b.symbol_id.0) writing r n ∙ (called-bound (beside old mid) mid scope x flags binds n ∙ ap (λ m. if m == n then x else called_of old n) (sym symbol)) in
      let made : bound_names (free_symbol_of written) (made_of written) ≡ bound_names (free_symbol_of old) (made_of old) ++ bound_as b ∷ [] =
      (λ i. bound_names (free i) ((r.names.made_is ∙ makes.made_is) i)) ∙ (names-more (free_symbol_of old) (made_of old) x ∙ ap (λ m. bound_names (free_symbol_of old) (made_of old) ++ named x (Some m) ∷ []) (sym symbol)) in
      λ i. record { in_use = λ y. uses y i; steady = λ n. steady n i; free_symbol = free i; called = λ n. names n i; made = made i }

whole-taken : (old mid written : TraverseCtx TransformState) (b : BoundIdentifier) (ps : List Pending) → Declares old mid b ps → Refers mid written (Some b.symbol_id.0) writing → whole_at (moment_of written) ≡ with_made (bound_as b ∷ []) (whole_at (moment_of old))
whole-taken old mid written b ps d r = whole-written old mid written b d.binds.scope function_scoped d.makes (declares-binds old mid b ps d) d.symbol r

-- AS A CHANGE OF THE MOMENT

whole-none : (w : Whole) → w ≡ with_made [] w
whole-none w = let e : w.free_symbol ≡ w.free_symbol + 0 = omega arith in λ i. record w { free_symbol = e i; made = sym (append-nil w.made) i }

pub takes-none : {ids : ℕ} {old new : TraverseCtx TransformState} → ReadsMore ids old new → Takes [] ids (moment_of old) (moment_of new)
takes-none {ids} {old} {new} r = record {
  numbered = tt;
  whole_is = ap whole_at r.moment_is ∙ whole-none (whole_at (moment_of old));
  next_is = ap (λ m. m.next) r.moment_is;
  lists_are = ap (λ m. m.lists) r.moment_is ∙ sym (with_no_names (moment_of old).lists);
  around_is = ap (λ m. m.around) r.moment_is;
  options_are = ap (λ m. m.options) r.moment_is;
}

-- A declared name that is then written.
pub takes-one : {ids : ℕ} (old mid new : TraverseCtx TransformState) (b : BoundIdentifier) → DeclaresVar old mid b → WritesOnce b.symbol_id.0 ids mid new → Takes (bound_as b ∷ []) (2 + ids) (moment_of old) (moment_of new)
takes-one old mid new b d w =
    let m = w.more.moment_is in
    let next : w.written.ast.next ≡ mid.ast.next + 1 = refers-next mid w.written (Some b.symbol_id.0) writing w.refers in
    record {
      numbered = (ap Some d.symbol, tt);
      whole_is = ap whole_at m ∙ whole-taken old mid w.written b _ d w.refers;
      next_is = omega (arith, ap (λ x. x.next) m, next, d.next, w.ids_are);
      lists_are = ap (λ x. x.lists) m ∙ (ap (λ (s : TransformState). s.var_declarations) w.refers.kept.state ∙ d.pending_is);
      around_is = ap (λ x. x.around) m ∙ (w.refers.kept.around ∙ d.around);
      options_are = ap (λ x. x.options) m ∙ (w.refers.kept.options ∙ d.options);
    }

-- A name that was bound where it stands, and then written.
pub takes-bound : (old mid new : TraverseCtx TransformState) (b : BoundIdentifier) (scope : ℕ) (flags : SymbolFlags) → MakesName old mid (bound_as b).name → Binds old mid scope (bound_as b).name flags → b.symbol_id.0 ≡ symbol_count (table_of old) → Refers mid new (Some b.symbol_id.0) writing → TakesBound (bound_as b) 1 (moment_of old) (moment_of new)
takes-bound old mid new b scope flags makes binds symbol r =
    let next : new.ast.next ≡ mid.ast.next + 1 = refers-next mid new (Some b.symbol_id.0) writing r in
    record {
      whole_is = whole-written old mid new b scope flags makes (record { table = binds.table; ast = refl; kept = record { state = refl; options = binds.kept.options; around = binds.kept.around; scopes = binds.kept.scopes; place = binds.kept.place } }) symbol r;
      next_is = omega (arith, next, ap (λ a. a.next) binds.ast);
      lists_are = ap (λ (s : TransformState). s.var_declarations) (r.kept.state ∙ binds.kept.state);
      around_is = r.kept.around ∙ binds.kept.around;
      options_are = r.kept.options ∙ binds.kept.options;
    }

-- and then references that read
pub takes-reads : {bs : List Bound} {m n : ℕ} {a : Moment} (mid new : TraverseCtx TransformState) → Takes bs m a (moment_of mid) → ReadsMore n mid new → Takes bs (m + n) a (moment_of new)
takes-reads mid new t r = record {
  numbered = t.numbered;
  whole_is = ap whole_at r.moment_is ∙ t.whole_is;
  next_is = omega (arith, ap (λ x. x.next) r.moment_is, t.next_is);
  lists_are = ap (λ x. x.lists) r.moment_is ∙ t.lists_are;
  around_is = ap (λ x. x.around) r.moment_is ∙ t.around_is;
  options_are = ap (λ x. x.options) r.moment_is ∙ t.options_are;
}

-- before which such were added
pub reads-takes : {bs : List Bound} {m n : ℕ} {b : Moment} (old mid : TraverseCtx TransformState) → ReadsMore m old mid → Takes bs n (moment_of mid) b → Takes bs (m + n) (moment_of old) b
reads-takes {bs} old mid r t = record {
  numbered = subst (λ f. Numbered f bs) (ap (λ x. x.free_symbol) r.moment_is) t.numbered;
  whole_is = t.whole_is ∙ ap (λ x. with_made bs (whole_at x)) r.moment_is;
  next_is = omega (arith, ap (λ x. x.next) r.moment_is, t.next_is);
  lists_are = t.lists_are ∙ ap (λ x. with_top (with_vars bs) x.lists) r.moment_is;
  around_is = t.around_is ∙ ap (λ x. x.around) r.moment_is;
  options_are = t.options_are ∙ ap (λ x. x.options) r.moment_is;
}

-- TEMPORARIES AFTER TEMPORARIES

calling-at : (ys : List Bound) (c d : ℕ → Text) (s : ℕ) → c s ≡ d s → calling ys c s ≡ calling ys d s
calling-at [] c d s e = e
calling-at (y ∷ ys) c d s e = ap (λ t. if is_symbol s y.symbol then y.name else t) (calling-at ys c d s e)

calling-past : (f g : ℕ) (x : Bound) (ys : List Bound) (d : ℕ → Text) (s : ℕ) → x.symbol ≡ Some f → f < g → Numbered g ys → calling ys (calling (x ∷ []) d) s ≡ calling (x ∷ ys) d s
calling-past f g x ys d s e l h = at (is_symbol s x.symbol) refl where
  at : (b : Bool) → is_symbol s x.symbol ≡ b → calling ys (calling (x ∷ []) d) s ≡ calling (x ∷ ys) d s
  at true k =
      let this : f ≡ s = eqb-true f s (sym (ap (is_symbol s) e) ∙ k) in
      numbered-old (calling (x ∷ []) d) g ys h s (omega (arith, this, l)) ∙ ((λ i. if k i then x.name else d s) ∙ sym (λ i. if k i then x.name else calling ys d s))
  at false k = calling-at ys (calling (x ∷ []) d) d s (λ i. if k i then x.name else d s) ∙ sym (λ i. if k i then x.name else calling ys d s)

calling-both : (f : ℕ) (xs ys : List Bound) (d : ℕ → Text) (s : ℕ) → Numbered f xs → Numbered (f + length xs) ys → calling ys (calling xs d) s ≡ calling (xs ++ ys) d s
calling-both f [] ys d s h g = refl
calling-both f (x ∷ xs) ys d s h g =
    let g' : Numbered (f + 1 + length xs) ys = subst (λ n. Numbered n ys) (omega arith) g in
    calling-past f (f + length (x ∷ xs)) x ys (calling xs d) s h.0 (omega arith) g ∙ ap (λ t. if is_symbol s x.symbol then x.name else t) (calling-both (f + 1) xs ys d s h.1 g')

numbered-both : (f : ℕ) (xs ys : List Bound) → Numbered f xs → Numbered (f + length xs) ys → Numbered f (xs ++ ys)
numbered-both f [] ys h g = subst (λ n. Numbered n ys) (omega arith) g
numbered-both f (x ∷ xs) ys h g = (h.0, numbered-both (f + 1) xs ys h.1 (subst (λ n. Numbered n ys) (omega arith) g))

also-both : (xs ys : List Bound) (f : Text → Bool) (y : Text) → also_all ys (also_all xs f) y ≡ also_all (xs ++ ys) f y
also-both [] ys f y = refl
also-both (x ∷ xs) ys f y = also-both xs ys (also x.name f) y

pub made-both : (xs ys : List Bound) (w : Whole) → Numbered w.free_symbol xs → Numbered (w.free_symbol + length xs) ys → with_made ys (with_made xs w) ≡ with_made (xs ++ ys) w
made-both xs ys w h g =
    let free : w.free_symbol + length xs + length ys ≡ w.free_symbol + length (xs ++ ys) = omega (arith, length-append xs ys) in
    λ i. record { in_use = λ y. also-both xs ys w.in_use y i; steady = w.steady; free_symbol = free i; called = λ s. calling-both w.free_symbol xs ys w.called s h g i; made = append_assoc w.made xs ys i }

with_top-both : (xs ys : List Bound) (ps : List Pending) → with_top (with_vars ys) (with_top (with_vars xs) ps) ≡ with_top (with_vars (xs ++ ys)) ps
with_top-both xs ys [] = refl
with_top-both xs ys (p ∷ ps) = ap (λ (q : Pending). q ∷ ps) (with_vars_then xs ys p)

pub takes-then : {xs ys : List Bound} {m n : ℕ} {a b c : Moment} → Takes xs m a b → Takes ys n b c → Takes (xs ++ ys) (m + n) a c
takes-then {xs} {ys} {a = a} g h =
    let next : Numbered (a.free_symbol + length xs) ys = subst (λ f. Numbered f ys) (ap (λ w. w.free_symbol) g.whole_is) h.numbered in
    record {
      numbered = numbered-both a.free_symbol xs ys g.numbered next;
      whole_is = h.whole_is ∙ (ap (with_made ys) g.whole_is ∙ made-both xs ys (whole_at a) g.numbered next);
      next_is = omega (arith, h.next_is, g.next_is);
      lists_are = h.lists_are ∙ (ap (with_top (with_vars ys)) g.lists_are ∙ with_top-both xs ys a.lists);
      around_is = h.around_is ∙ g.around_is;
      options_are = h.options_are ∙ g.options_are;
    }
