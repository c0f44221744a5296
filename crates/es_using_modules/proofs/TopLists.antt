-- What is left outside of the statements of a module's list, and what they become inside: all names are declared that were declared, and one of each
-- default export that takes a name.
use Rattle.std.proofs.Common.{arith, ◌+◌, ◌≡◌, ℕ, refl, sym, ◌∙◌, List, [], ◌∷◌, ◌++◌}
use Rattle.std.specs.Prelude.{Bool, true, false, ◌||◌, Option, codes, if◌then◌else◌}
use Rattle.std.specs.List.{list_any}
use Rattle.es_tree.specs.HasForm.{has_form, trees_form}
use Rattle.es_tree.specs.Names.{first_text}
use Rattle.es_tree.specs.Tree.{Tree, node, Label, Fields, done, ◌then◌, one, Trees, ◌before◌, kind_of, label_of}
use Rattle.es_tree.specs.Words.{Text}
use Rattle.es_tree.specs.declared.ast_type.AstType.TheVariants.{ClassDeclaration, ExportDefaultDeclaration, ExportNamedDeclaration, FunctionDeclaration, Identifier, Program}
use Rattle.es_tree.specs.declared.table.Sort.TheVariants.{Expression as s-Expression, Statement as s-Statement}
use Rattle.es_tree.proofs.NodeForm.{node_form}
use Rattle.es_semantic.specs.RolesOf.{binding_of, reads}
use Rattle.es_semantic.specs.SymbolsOf.{hoists}
use Rattle.es_semantic.specs.declared.place.Binding.{Binding}
use Rattle.es_semantic.specs.declared.place.Role.TheVariants.{Binds, Top}
use Rattle.es_resolution.specs.Declarations.{Bound, declared, declared_among, symbol_of}
use Rattle.es_resolution.specs.Named.{IsBelow, Named, NamedAll, NamedBy, NamedIn}
use Rattle.es_resolution.specs.Resolved.{no_name, Resolved, ResolvedAll, ResolvedBy, ResolvedIn}
use Rattle.es_resolution.specs.Single.{scopes_among, scopes_with}
use Rattle.es_resolution.proofs.AllForms.{AllAmong}
use Rattle.es_resolution.proofs.Placed.{PlacedAll}
use Rattle.es_steps.specs.Identifiers.{Passes, PassesAll}
use Rattle.es_steps.specs.Nodes.{identifier}
use Rattle.es_steps.specs.UsingBodies.{bound_as}
use Rattle.es_steps.proofs.FormLists.{first-formed}
use Rattle.es_pattern_moves.proofs.Settled.{Sound}
use Rattle.es_export_splits.specs.SplitRule.{EachTree}
use Rattle.es_export_splits.specs.Splits.{export_of, specifiers, text_of, with_symbols}
use Rattle.es_export_splits.proofs.ExportNames.{HandedOn, declaration-names, export_with}
use Rattle.es_export_splits.proofs.ExportRules.{PassesIt, passes-handed}
use Rattle.es_using_modules.specs.ModuleTops.{as_value, by_bounds, default_export, is_function, is_named_default, some_default, stays_outside, takes_name}
use Rattle.es_using_modules.proofs.TopInside.{Fits, Has, Inner, Setting, bare-inner, class-inner, here, still, stood, there, value-inner, variables-inner}
use Rattle.es_using_modules.proofs.TopMoves.{Declares, Defaults, Moves, default_with, is_plain}
use Rattle.es_using_modules.proofs.TopMoves.Declares.{by_class, by_variables}
use Rattle.es_using_modules.proofs.TopMoves.Defaults.{a_value, bare_class, named_class}
use Rattle.es_using_modules.proofs.TopMoves.Moves.{declares, default_export_of, exports, no_more, plain, stays}
use Rattle.es_using_modules.proofs.TopShifts.{both-append, in_both}
use Rattle.es_using_modules.proofs.TopValues.{any-nil, statement-silent, sunk-statement}

module _ (g : Setting) where
  -- NAMES OF A DECLARATION

  abbrev IsName : Tree → Type 0
  IsName x = (g.u (text_of x) ≡ true) × IsBelow g.f (symbol_of (label_of x)) × (symbol_of (label_of x) ≡ g.S (text_of x))

  where-declared : (v : Bool) (o : Option ℕ) → (if v then o else o) ≡ o
  where-declared true o = refl
  where-declared false o = refl

  names-handed : (b : Binding) → HandedOn IsName (λ t. Named g.u g.f (Binds b) t × Resolved (Binds b) (there g) t) (λ h. NamedBy g.u g.f (Binds b) h × ResolvedBy (Binds b) (there g) h) (λ ts. NamedAll g.u g.f (Binds b) ts × ResolvedAll (Binds b) (there g) ts) (λ fs. NamedIn g.u g.f (λ i. Binds b) fs × ResolvedIn (λ i. Binds b) (λ i. there g) fs)
  names-handed b = record {
    names = λ l fs h. (h.0.0.0, h.0.0.1, h.1.0.0 ∙ where-declared (hoists b) (g.S (first_text l.texts)));
    objects = λ l f fs h. (h.0.1.0, h.1.2.0);
    properties = λ l f k fs h. (h.0.1.1.0, h.1.2.1.0);
    defaults = λ l f fs h. (h.0.1.0, h.1.2.0);
    rests = λ l f fs h. (h.0.1.0, h.1.2.0);
    arrays = λ l fs h. (h.0.1, h.1.2);
    elements = λ f fs h. ((h.0.0, h.1.0), (h.0.1, h.1.1));
    child = λ t h. h;
    children = λ ts h. h;
    list = λ ts h. h;
    more = λ t ts h. ((h.0.0, h.1.0), (h.0.1, h.1.1));
  }

  -- an exported declaration, the names that it declares, and what it becomes inside
  record Exported (d : Tree) (xs : List Tree) (v : Tree) : Type 0 where
    inner : Inner g [] d v
    names : EachTree IsName xs
    pass : (q : Text → Option ℕ → Bool) → Passes q d → EachTree (PassesIt q) xs

  module _ (error : Bound) where
    by-class : (l : Label) (c : Tree) (fs : Fields) → Has g (node ClassDeclaration l (one c then fs)) → Exported (node ClassDeclaration l (one c then fs)) (c ∷ []) (as_value (by_bounds g.default g.context error) l c fs)
    by-class l (node Identifier cl done) fs h = record {
      inner = class-inner g l cl fs h;
      names = ((h.named.1.0.0.0, h.named.1.0.0.1, h.resolved.2.0.0.0), tt);
      pass = λ q p. (p.1.0.0, tt);
    }
    by-class l (node Identifier cl (f then gs)) fs h = absurd (let no : false ≡ true = h.placed.1 in cc no)
    by-class l (node k cl gs) fs h = absurd (let no : false ≡ true = h.placed.1 in cc no)

    exported : (d : Tree) (xs : List Tree) (v : Tree) → Declares g.default g.context error d xs v → Has g d → Exported d xs v
    exported d xs v (by_variables l ds es a) h =
        let b = binding_of (first_text l.texts) in
        record {
          inner = variables-inner g l ds es a h;
          names = declaration-names (names-handed b) {D = λ t. Named g.u g.f (Binds b) t × Resolved (Binds b) (there g) t} {Ds = λ ts. NamedAll g.u g.f (Binds b) ts × ResolvedAll (Binds b) (there g) ts} (λ n p gs e. (e.0.1.0, e.1.2.0)) (λ t ts e. ((e.0.0, e.1.0), (e.0.1, e.1.1))) l ds done (h.named.1.0, h.resolved.2.0);
          pass = λ q p. declaration-names (passes-handed q) {D = Passes q} {Ds = PassesAll q} (λ n x gs e. e.1.0) (λ t ts e. e) l ds done p.1.0;
        }
    exported d xs v (by_class l c fs) h = by-class l c fs h

  -- EXPORTS that are left outside: they declare nothing, and read these names

  record Outer (t e : Tree) : Type 0 where
    both : (q : Bound → Bool) → in_both q (declared false Top e) (declared true Top e) ≡ false
    scopes : (s : ℕ) → scopes_with s no_name Top e ≡ 0
    named : Named g.u' g.f' Top e
    resolved : Resolved Top (here g) e
    passes : (q : Text → Option ℕ → Bool) → Fits g q → Passes q t → Passes q e

  specifiers-declare : (v : Bool) (xs : List Tree) → declared_among v reads (specifiers with_symbols xs) ≡ []
  specifiers-declare v [] = refl
  specifiers-declare true (x ∷ xs) = specifiers-declare true xs
  specifiers-declare false (x ∷ xs) = specifiers-declare false xs

  specifiers-scopes : (s : ℕ) (xs : List Tree) → scopes_among s no_name reads (specifiers with_symbols xs) ≡ 0
  specifiers-scopes s [] = refl
  specifiers-scopes s (x ∷ xs) = let h = specifiers-scopes s xs in omega arith

  specifiers-named : (xs : List Tree) → EachTree IsName xs → NamedAll g.u' g.f' reads (specifiers with_symbols xs)
  specifiers-named [] h = tt
  specifiers-named (x ∷ xs) h = (((tt, tt), (still g reads (identifier (bound_as (label_of x))) ((h.0.0, h.0.1), tt), (((tt, tt), tt), tt))), specifiers-named xs h.1)

  specifiers-resolved : (xs : List Tree) → EachTree IsName xs → ResolvedAll reads (here g) (specifiers with_symbols xs)
  specifiers-resolved [] h = tt
  specifiers-resolved (x ∷ xs) h = ((tt, refl, ((h.0.2 ∙ sym (g.agree (text_of x) h.0.0), refl, tt), ((tt, refl, tt), tt))), specifiers-resolved xs h.1)

  specifiers-pass : (q : Text → Option ℕ → Bool) → Fits g q → (xs : List Tree) → EachTree (PassesIt q) xs → PassesAll q (specifiers with_symbols xs)
  specifiers-pass q k [] h = tt
  specifiers-pass q k (x ∷ xs) h = ((tt, ((h.0, tt), ((k.words (text_of x), tt), tt))), specifiers-pass q k xs h.1)

  export-outer : (l : Label) (d : Tree) (xs : List Tree) (v : Tree) → Exported d xs v → Outer (export_with l d) (export_of with_symbols (export_with l d) xs)
  export-outer l d xs v h = record {
    both = λ q i. list_any q (specifiers-declare false xs i ++ []) || list_any q (specifiers-declare true xs i ++ []);
    scopes = λ s. let a = specifiers-scopes s xs in omega arith;
    named = ((tt, tt), (tt, (specifiers-named xs h.names, (tt, (tt, tt)))));
    resolved = (tt, refl, (tt, (specifiers-resolved xs h.names, (tt, (tt, tt)))));
    passes = λ q k p. (tt, (tt, (specifiers-pass q k xs (h.pass q p.1.0), (tt, (tt, tt)))));
  }

  -- `export { x as default };`, where x is known here
  local-outer : (error : Bound) (t : Tree) (x : Bound) → g.u' x.name ≡ true → IsBelow g.f' x.symbol → x.symbol ≡ g.S' x.name → ((q : Text → Option ℕ → Bool) → Fits g q → Passes q t → q x.name x.symbol ≡ true) → Outer t (default_export (by_bounds g.default g.context error) t (identifier x))
  local-outer error t x used below found pass = record {
    both = λ q. refl;
    scopes = λ s. refl;
    named = ((tt, tt), (tt, ((((tt, tt), (((used, below), tt), (((tt, tt), tt), tt))), tt), (tt, (tt, tt)))));
    resolved = (tt, refl, (tt, (((tt, refl, ((found, refl, tt), ((tt, refl, tt), tt))), tt), (tt, (tt, tt)))));
    passes = λ q k p. (tt, (tt, (((tt, ((pass q k p, tt), ((k.words (codes "default"), tt), tt))), tt), (tt, (tt, tt)))));
  }

  -- LISTS

  pub record HasAll (ts : Trees) : Type 0 where
    pub form : trees_form s-Statement s-Statement ts ≡ true
    pub sound : AllAmong Sound ts
    pub placed : PlacedAll Program ts
    pub named : NamedAll g.u g.f Top ts
    pub resolved : ResolvedAll Top (there g) ts

  -- whether the name of a default export is declared more
  abbrev pub and_default : (Bound → Bool) → Bool → Bool
  and_default q b = if b then q g.default else false

  pub record Lists (ts os us : Trees) : Type 0 where
    pub both : (q : Bound → Bool) → (in_both q (declared_among false Top os) (declared_among true Top os) || in_both q (declared_among false reads us) (declared_among true reads us)) ≡ (and_default q (some_default ts) || in_both q (declared_among false Top ts) (declared_among true Top ts))
    pub silent : declared_among false reads us ≡ []
    pub scopes : (s : ℕ) → scopes_among s no_name Top os + scopes_among s no_name reads us ≡ scopes_among s no_name Top ts
    pub named_outside : NamedAll g.u' g.f' Top os
    pub named_inside : NamedAll g.u' g.f' reads us
    pub resolved_outside : ResolvedAll Top (here g) os
    pub resolved_inside : ResolvedAll reads (here g) us
    pub passes : (q : Text → Option ℕ → Bool) → Fits g q → PassesAll q ts → PassesAll q os × PassesAll q us

  -- TESTS of both parts

  or-right : (a b : Bool) → b ≡ true → (a || b) ≡ true
  or-right true b e = refl
  or-right false b e = e

  mix-in : (o t u x r : Bool) → (o || u) ≡ (x || r) → (o || (t || u)) ≡ (x || (t || r))
  mix-in o true u x r e = or-right o true refl ∙ sym (or-right x true refl)
  mix-in o false u x r e = e

  mix-out : (t o u x r : Bool) → (o || u) ≡ (x || r) → ((t || o) || u) ≡ (x || (t || r))
  mix-out true o u x r e = sym (or-right x true refl)
  mix-out false o u x r e = e

  mix-new : (o d t u b r : Bool) → (o || u) ≡ ((if b then d else false) || r) → (o || (((d || false) || t) || u)) ≡ (d || (t || r))
  mix-new o true t u b r e = or-right o true refl
  mix-new o false t u b r e = mix-in o t u false r (e ∙ (λ i. none b i || r))
    where
      none : (b : Bool) → (if b then false else false) ≡ false
      none true = refl
      none false = refl

  -- one more before both lists
  trees-both : (q : Bound → Bool) (t : Tree) (ts : Trees) → in_both q (declared_among false Top (t before ts)) (declared_among true Top (t before ts)) ≡ (in_both q (declared false Top t) (declared true Top t) || in_both q (declared_among false Top ts) (declared_among true Top ts))
  trees-both q t ts = both-append q (declared false Top t) (declared_among false Top ts) (declared true Top t) (declared_among true Top ts)

  inside-both : (q : Bound → Bool) (t : Tree) (ts : Trees) → in_both q (declared_among false reads (t before ts)) (declared_among true reads (t before ts)) ≡ (in_both q (declared false reads t) (declared true reads t) || in_both q (declared_among false reads ts) (declared_among true reads ts))
  inside-both q t ts = both-append q (declared false reads t) (declared_among false reads ts) (declared true reads t) (declared_among true reads ts)

  -- no default export that takes a name
  stays-unnamed : (t : Tree) → stays_outside t ≡ true → is_named_default t ≡ false
  stays-unnamed (node ExportDefaultDeclaration l (one d then fs)) e = function-unnamed d e
    where
      function-unnamed : (d : Tree) → is_function d ≡ true → takes_name d ≡ false
      function-unnamed (node FunctionDeclaration k gs) e = refl
      function-unnamed (node k l gs) e = absurd (let no : false ≡ true = e in cc no)
  stays-unnamed t e = refl

  plain-unnamed : (t : Tree) → is_plain (kind_of t) ≡ true → is_named_default t ≡ false
  plain-unnamed (node ExportDefaultDeclaration l fs) e = absurd (let no : false ≡ true = e in cc no)
  plain-unnamed (node k l fs) e = refl

  value-takes : (e : Tree) → has_form s-Expression e ≡ true → takes_name e ≡ true
  value-takes (node ClassDeclaration l fs) f = absurd (let no : false ≡ true = (node_form s-Expression ClassDeclaration l fs f).sort in cc no)
  value-takes (node FunctionDeclaration l fs) f = absurd (let no : false ≡ true = (node_form s-Expression FunctionDeclaration l fs f).sort in cc no)
  value-takes (node k l fs) f = refl

  -- ONE STATEMENT more, which becomes this inside

  step-in : (t v : Tree) (ts os us : Trees) → Inner g [] t v → is_named_default t ≡ false → Lists ts os us → Lists (t before ts) os (v before us)
  step-in t v ts os us k none h = record {
    both = λ q.
        (λ i. outside_has q || inside-both q v us i) ∙ (λ i. outside_has q || (k.both q i || inside_has q))
        ∙ mix-in (outside_has q) (in_both q (declared false Top t) (declared true Top t)) (inside_has q) (and_default q (some_default ts)) (in_both q (declared_among false Top ts) (declared_among true Top ts)) (h.both q)
        ∙ sym (λ i. and_default q (none i || some_default ts) || trees-both q t ts i);
    silent = λ i. k.silent i ++ h.silent i;
    scopes = λ s. let a = k.scopes s in let b = h.scopes s in omega arith;
    named_outside = h.named_outside;
    named_inside = (k.named, h.named_inside);
    resolved_outside = h.resolved_outside;
    resolved_inside = (k.resolved, h.resolved_inside);
    passes = λ q fits p. let r = h.passes q fits p.1 in (r.0, (k.passes q fits p.0, r.1));
  }
    where
      outside_has : (Bound → Bool) → Bool
      outside_has q = in_both q (declared_among false Top os) (declared_among true Top os)

      inside_has : (Bound → Bool) → Bool
      inside_has q = in_both q (declared_among false reads us) (declared_among true reads us)

  step-new : (t v : Tree) (ts os us : Trees) → Inner g (g.default ∷ []) t v → is_named_default t ≡ true → Lists ts os us → Lists (t before ts) os (v before us)
  step-new t v ts os us k some h = record {
    both = λ q.
        (λ i. in_both q (declared_among false Top os) (declared_among true Top os) || inside-both q v us i) ∙ (λ i. in_both q (declared_among false Top os) (declared_among true Top os) || (k.both q i || in_both q (declared_among false reads us) (declared_among true reads us)))
        ∙ mix-new (in_both q (declared_among false Top os) (declared_among true Top os)) (q g.default) (in_both q (declared false Top t) (declared true Top t)) (in_both q (declared_among false reads us) (declared_among true reads us)) (some_default ts) (in_both q (declared_among false Top ts) (declared_among true Top ts)) (h.both q)
        ∙ sym (λ i. and_default q (some i || some_default ts) || trees-both q t ts i);
    silent = λ i. k.silent i ++ h.silent i;
    scopes = λ s. let a = k.scopes s in let b = h.scopes s in omega arith;
    named_outside = h.named_outside;
    named_inside = (k.named, h.named_inside);
    resolved_outside = h.resolved_outside;
    resolved_inside = (k.resolved, h.resolved_inside);
    passes = λ q fits p. let r = h.passes q fits p.1 in (r.0, (k.passes q fits p.0, r.1));
  }

  -- and of which this is left outside
  step-out : (t e : Tree) (ts os us : Trees) → Outer t e → Lists (t before ts) os us → Lists (t before ts) (e before os) us
  step-out t e ts os us k h = record {
    both = λ q. (λ i. trees-both q e os i || in_both q (declared_among false reads us) (declared_among true reads us)) ∙ (λ i. (k.both q i || in_both q (declared_among false Top os) (declared_among true Top os)) || in_both q (declared_among false reads us) (declared_among true reads us)) ∙ h.both q;
    silent = h.silent;
    scopes = λ s. let a = k.scopes s in let b = h.scopes s in omega arith;
    named_outside = (k.named, h.named_outside);
    named_inside = h.named_inside;
    resolved_outside = (k.resolved, h.resolved_outside);
    resolved_inside = h.resolved_inside;
    passes = λ q fits p. let r = h.passes q fits p in ((k.passes q fits p.0, r.0), r.1);
  }

  -- what an export hands on
  exported-inner : (news : List Bound) (l : Label) (d v : Tree) → Inner g news d v → Inner g news (export_with l d) v
  exported-inner news l d v k = record {
    both = λ q. k.both q ∙ sym (λ i. list_any q news || (any-nil q (declared false Top d) i || any-nil q (declared true Top d) i));
    silent = k.silent;
    scopes = λ s. let a = k.scopes s in omega arith;
    named = k.named;
    resolved = k.resolved;
    passes = λ q fits p. k.passes q fits p.1.0;
  }

  default-inner : (news : List Bound) (l : Label) (d v : Tree) → Inner g news d v → Inner g news (default_with l d) v
  default-inner news l d v k = record {
    both = λ q. k.both q ∙ sym (λ i. list_any q news || (any-nil q (declared false Top d) i || any-nil q (declared true Top d) i));
    silent = k.silent;
    scopes = λ s. let a = k.scopes s in omega arith;
    named = k.named;
    resolved = k.resolved;
    passes = λ q fits p. k.passes q fits p.1.0;
  }

  has-exported : (l : Label) (d : Tree) → Has g (export_with l d) → Has g d
  has-exported l d h = record { above = ExportNamedDeclaration; last = false; sound = h.sound.1.0; placed = h.placed.2.0; named = h.named.1.0; resolved = h.resolved.2.0 }

  has-default : (l : Label) (d : Tree) → Has g (default_with l d) → Has g d
  has-default l d h = record { above = ExportDefaultDeclaration; last = true; sound = h.sound.1.0; placed = h.placed.2.0; named = h.named.1.0; resolved = h.resolved.2.0 }

  has-first : (t : Tree) (ts : Trees) → HasAll (t before ts) → Has g t
  has-first t ts h = record { above = Program; last = false; sound = h.sound.0; placed = h.placed.0; named = h.named.0; resolved = h.resolved.0 }

  has-rest : (t : Tree) (ts : Trees) → HasAll (t before ts) → HasAll ts
  has-rest t ts h = record { form = (first-formed s-Statement t ts h.form).1; sound = h.sound.1; placed = h.placed.1; named = h.named.1; resolved = h.resolved.1 }

  module _ (error : Bound) where
    declared-unnamed : (d : Tree) (xs : List Tree) (v : Tree) → Declares g.default g.context error d xs v → is_named_default d ≡ false
    declared-unnamed d xs v (by_variables l ds es a) = refl
    declared-unnamed d xs v (by_class l c fs) = refl

    by-default : (l : Label) (d x v : Tree) (ts os us : Trees) → Defaults g.default g.context error (default_with l d) d x v → Has g (default_with l d) → Lists ts os us → Lists (default_with l d before ts) (default_export (by_bounds g.default g.context error) (default_with l d) x before os) (v before us)
    by-default l d x v ts os us (named_class k c fs) h r =
        let e = by-class error k c fs (has-default l d h) in
        let it = bound_as (label_of c) in
        let name = still g reads (identifier it) ((e.names.0.0, e.names.0.1), tt) in
        step-out (default_with l d) (default_export (by_bounds g.default g.context error) (default_with l d) x) ts os (v before us)
        (local-outer error (default_with l d) it name.0.0 name.0.1 (e.names.0.2 ∙ sym (g.agree it.name e.names.0.0)) (λ q fits p. (e.pass q p.1.0).0))
        (step-in (default_with l d) v ts os us (default-inner [] l d v e.inner) refl r)
    by-default l d x v ts os us (bare_class k fs) h r =
        step-out (default_with l d) (default_export (by_bounds g.default g.context error) (default_with l d) x) ts os (v before us)
        (local-outer error (default_with l d) g.default g.default_known.used g.default_known.below (sym g.default_known.found) (λ q fits p. fits.default))
        (step-new (default_with l d) v ts os us (default-inner (g.default ∷ []) l d v (bare-inner g k fs (has-default l d h))) refl r)
    by-default l d x v ts os us (a_value e f) h r =
        step-out (default_with l d) (default_export (by_bounds g.default g.context error) (default_with l d) x) ts os (v before us)
        (local-outer error (default_with l d) g.default g.default_known.used g.default_known.below (sym g.default_known.found) (λ q fits p. fits.default))
        (step-new (default_with l d) v ts os us (default-inner (g.default ∷ []) l d v (value-inner g e f (has-default l d h))) (value-takes e f) r)

    pub lists : (ts os us : Trees) → Moves g.default g.context error ts os us → HasAll ts → Lists ts os us
    lists ts os us no_more h = record { both = λ q. refl; silent = refl; scopes = λ s. refl; named_outside = tt; named_inside = tt; resolved_outside = tt; resolved_inside = tt; passes = λ q fits p. (tt, tt) }
    lists ts os us (stays {t = t} {ts = ts'} {os = os'} e r) h =
        let k = lists ts' os' us r (has-rest t ts' h) in
        record {
          both = λ q.
              (λ i. trees-both q t os' i || in_both q (declared_among false reads us) (declared_among true reads us))
              ∙ mix-out (in_both q (declared false Top t) (declared true Top t)) (in_both q (declared_among false Top os') (declared_among true Top os')) (in_both q (declared_among false reads us) (declared_among true reads us)) (and_default q (some_default ts')) (in_both q (declared_among false Top ts') (declared_among true Top ts')) (k.both q)
              ∙ sym (λ i. and_default q (stays-unnamed t e i || some_default ts') || trees-both q t ts' i);
          silent = k.silent;
          scopes = λ s. let a = k.scopes s in omega arith;
          named_outside = (still g Top t h.named.0, k.named_outside);
          named_inside = k.named_inside;
          resolved_outside = (stood g Top t h.named.0 h.resolved.0, k.resolved_outside);
          resolved_inside = k.resolved_inside;
          passes = λ q fits p. let c = k.passes q fits p.1 in ((p.0, c.0), c.1);
        }
    lists ts os us (plain {t = t} {ts = ts'} {us = us'} e r) h =
        let form = (first-formed s-Statement t ts' h.form).0 in
        let sunk = sunk-statement t form e in
        let named = sunk.named g.u g.f h.named.0 in
        step-in t t ts' os us'
        (record { both = sunk.both; silent = statement-silent t form e h.sound.0; scopes = sunk.scopes; named = still g reads t named; resolved = stood g reads t named (sunk.resolved g.S h.resolved.0); passes = λ q fits p. p })
        (plain-unnamed t e) (lists ts' os us' r (has-rest t ts' h))
    lists ts os us (declares {d = d} {u = v} {xs = xs} {ts = ts'} {us = us'} it r) h =
        let e = exported error d xs v it (has-first d ts' h) in
        step-in d v ts' os us' e.inner (declared-unnamed d xs v it) (lists ts' os us' r (has-rest d ts' h))
    lists ts os us (exports {l = l} {d = d} {u = v} {xs = xs} {ts = ts'} {os = os'} {us = us'} it r) h =
        let e = exported error d xs v it (has-exported l d (has-first (export_with l d) ts' h)) in
        step-out (export_with l d) (export_of with_symbols (export_with l d) xs) ts' os' us (export-outer l d xs v e)
        (step-in (export_with l d) v ts' os' us' (exported-inner [] l d v e.inner) refl (lists ts' os' us' r (has-rest (export_with l d) ts' h)))
    lists ts os us (default_export_of {l = l} {d = d} {x = x} {u = v} {ts = ts'} {os = os'} {us = us'} it r) h =
        by-default l d x v ts' os' us' it (has-first (default_with l d) ts' h) (lists ts' os' us' r (has-rest (default_with l d) ts' h))
