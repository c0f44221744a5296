-- Statements at the top of a body that become those of a block: its functions go from the names of the body to those of the block, and
-- each name finds what it found.
use Rattle.std.proofs.Common.{◌+◌, ◌≡◌, ℕ, zero, suc, refl, sym, ap, subst, ◌∙◌, List, [], ◌∷◌, ◌++◌}
use Rattle.std.specs.Prelude.{Bool, true, false, not, ◌&&◌, ◌||◌, Option, Some, None, is_some, bytes_eq, if◌then◌else◌}
use Rattle.std.specs.List.{list_any, list_all}
use Rattle.es_tree.specs.Words.{Text}
use Rattle.es_tree.specs.Names.{first_text}
use Rattle.es_tree.specs.Tree.{Tree, node, Label, Fields, done, ◌then◌, Field, missing, one, many, statements, Trees, empty, ◌before◌}
use Rattle.es_tree.specs.declared.ast_type.AstType.{AstType}
use Rattle.es_tree.specs.declared.ast_type.AstType.TheVariants.{ArrayPattern, ArrayTarget, AssignmentPattern, ExportDefaultDeclaration, ExportNamedDeclaration, ExportSpecifier, FunctionDeclaration, Identifier, ObjectPattern, ObjectTarget, ParenthesizedExpression, PatternProperty, RestElement, TargetProperty, TargetRest, TargetWithDefault, VariableDeclarator}
use Rattle.es_semantic.specs.RolesOf.{reads, role_at}
use Rattle.es_semantic.specs.SymbolsOf.{hoists}
use Rattle.es_semantic.specs.declared.place.Binding.TheVariants.{Parameter}
use Rattle.es_semantic.specs.declared.place.Role.{Role}
use Rattle.es_semantic.specs.declared.place.Role.TheVariants.{Nothing, Binds, Top}
use Rattle.es_resolution.specs.Declarations.{Bound, sought, symbol_of, is_var_scope, own_declared, reaches_out, declared, declared_in, declared_by, declared_among}
use Rattle.es_resolution.specs.Named.{OwnUsed, Named, NamedIn, NamedAll}
use Rattle.es_resolution.specs.Resolved.{Place, or_around, bound_by, name_frame, class_frame, hoisting, place_in, parameters_in, OwnRight, IsMarked, Resolved, ResolvedIn, ResolvedBy, ResolvedAll}
use Rattle.es_resolution.specs.Single.{is_it, binds, is_var_of, own_binds, one_if, scopes_with, scopes_in, scopes_among}
use Rattle.es_steps.specs.Patterns.{no_name_of}
use Rattle.es_steps.specs.UsingBodies.{is_as_in_block, bound_as, TopFunctions}
use Rattle.es_steps.specs.UsingBodies.TopFunctions.{no_function, function, other}
use Rattle.es_resolution.proofs.Basics.{bytes_eq-self, either_of, sought-append}
use Rattle.es_steps.proofs.Inserted.{Inserted, inserted-right, apart-names}
use Rattle.es_steps.proofs.Kept.{every}

-- A FURTHER NAME, first

pub inserted-more : (f : Bound) (ms bs cs : List Bound) → Inserted ms bs cs → Inserted (f ∷ ms) bs (f ∷ cs)
inserted-more f ms bs cs h = record {
  none = λ y e. none y (bytes_eq f.name y) e;
  some = λ y o e d. some y o (bytes_eq f.name y) e d;
  any = λ q. (λ i. q f || h.any q i) ∙ again (q f) (list_any q ms) (list_any q bs);
}
  where
    again : (a b c : Bool) → (a || (b || c)) ≡ ((a || b) || c)
    again true b c = refl
    again false b c = refl

    none : (y : Text) (b : Bool) → (if b then Some f.symbol else sought ms y) ≡ None → (if b then Some f.symbol else sought cs y) ≡ sought bs y
    none y true e = absurd (cc e)
    none y false e = h.none y e

    some : (y : Text) (o : Option ℕ) (b : Bool) → (if b then Some f.symbol else sought ms y) ≡ Some o → sought bs y ≡ None → (if b then Some f.symbol else sought cs y) ≡ Some o
    some y o true e d = e
    some y o false e d = h.some y o e d

-- STATEMENTS

same-role : (k : AstType) (l : Label) (fs : Fields) (i : ℕ) → is_as_in_block k ≡ true → role_at Top k l fs i ≡ role_at reads k l fs i
same-role FunctionDeclaration l fs i e = absurd (cc e)
same-role ExportNamedDeclaration l fs i e = absurd (cc e)
same-role ExportDefaultDeclaration l fs i e = absurd (cc e)
same-role VariableDeclarator l fs i e = absurd (cc e)
same-role ExportSpecifier l fs i e = absurd (cc e)
same-role ParenthesizedExpression l fs i e = absurd (cc e)
same-role ObjectPattern l fs i e = absurd (cc e)
same-role PatternProperty l fs i e = absurd (cc e)
same-role ArrayPattern l fs i e = absurd (cc e)
same-role AssignmentPattern l fs i e = absurd (cc e)
same-role RestElement l fs i e = absurd (cc e)
same-role ObjectTarget l fs i e = absurd (cc e)
same-role TargetProperty l fs i e = absurd (cc e)
same-role ArrayTarget l fs i e = absurd (cc e)
same-role TargetWithDefault l fs i e = absurd (cc e)
same-role TargetRest l fs i e = absurd (cc e)
same-role _ l fs i e = refl

own-same : (v : Bool) (k : AstType) (l : Label) → own_declared v Top k l ≡ own_declared v reads k l
own-same v Identifier l = refl
own-same v _ l = refl

own-used : (u : Text → Bool) (k : AstType) (l : Label) → OwnUsed u Top k l → OwnUsed u reads k l
own-used u Identifier l h = h
own-used u _ l h = h

own-right : (p : Place) (k : AstType) (l : Label) → OwnRight p Top k l → OwnRight p reads k l
own-right p Identifier l h = h
own-right p _ l h = h

module _ (k : AstType) (l : Label) (fs : Fields) (e : is_as_in_block k ≡ true) where
  roles : role_at Top k l fs ≡ role_at reads k l fs
  roles = λ i j. same-role k l fs j e i

  declares-same : (v : Bool) → declared v Top (node k l fs) ≡ declared v reads (node k l fs)
  declares-same v = λ i. own-same v k l i ++ declared_in v (reaches_out v k) (roles i) fs

  scopes-same : (s : ℕ) (ps : Text → Bool) → scopes_with s ps Top (node k l fs) ≡ scopes_with s ps reads (node k l fs)
  scopes-same s ps = λ i. one_if (binds s (name_frame k (roles i) fs)) + one_if (own_binds s ps k l (roles i) fs) + scopes_in s (parameters_in k l (roles i) fs) (roles i) fs

  named-same : (u : Text → Bool) (f : ℕ) → Named u f Top (node k l fs) → Named u f reads (node k l fs)
  named-same u f h = ((own-used u k l h.0.0, h.0.1), subst (λ (z : ℕ → Role). NamedIn u f z fs) roles h.1)

  resolved-same : (p : Place) → Resolved Top p (node k l fs) → Resolved reads p (node k l fs)
  resolved-same p h = (own-right p k l h.0, subst (λ (z : ℕ → Role). IsMarked (class_frame k l z fs)) roles h.1, subst (λ (z : ℕ → Role). ResolvedIn z (place_in p k l z fs) fs) roles h.2)

-- what comes of statements in a block
pub record Entered (ts : Trees) (fs : List Bound) : Type 0 where
  pub lexical : Inserted fs (declared_among false Top ts) (declared_among false reads ts)
  pub vars : Inserted fs (declared_among true reads ts) (declared_among true Top ts)
  pub scopes : (s : ℕ) (ps : Text → Bool) → scopes_among s ps Top ts ≡ scopes_among s ps reads ts
  pub named : (u : Text → Bool) (f : ℕ) → NamedAll u f Top ts → NamedAll u f reads ts
  pub resolved : (p : Place) → ((y : Text) → bound_by fs y ≡ true → p.hoist y ≡ p.scope y) → ResolvedAll Top p ts → ResolvedAll reads p ts

pub bound-first : (f : Bound) (fs : List Bound) → bound_by (f ∷ fs) f.name ≡ true
bound-first f fs = λ i. is_some (if bytes_eq-self f.name i then Some f.symbol else sought fs f.name)

pub bound-later : (f : Bound) (fs : List Bound) (y : Text) → bound_by fs y ≡ true → bound_by (f ∷ fs) y ≡ true
bound-later f fs y e = at (bytes_eq f.name y)
  where
    at : (b : Bool) → is_some (if b then Some f.symbol else sought fs y) ≡ true
    at true = refl
    at false = e

pub entered : (ts : Trees) (fs : List Bound) → TopFunctions ts fs → Entered ts fs
entered ts fs no_function = record { lexical = record { none = λ y e. refl; some = λ y o e d. e; any = λ q. refl }; vars = record { none = λ y e. refl; some = λ y o e d. e; any = λ q. refl }; scopes = λ s ps. refl; named = λ u f h. tt; resolved = λ p e h. tt }
entered ts fs (function {l = l} {m = m} {ps = ps} {ts = ts'} {b = b} {fs = fs'} rest) =
    let h = entered ts' fs' rest in
    let mine = declared_among true (Binds Parameter) ps ++ (declared true reads b ++ []) in
    record {
      lexical = inserted-more (bound_as m) fs' (declared_among false Top ts') (declared_among false reads ts') h.lexical;
      vars = inserted-more (bound_as m) fs' (mine ++ declared_among true reads ts') (mine ++ declared_among true Top ts') (inserted-right mine fs' (declared_among true reads ts') (declared_among true Top ts') h.vars);
      scopes = λ s ps' i. scopes_with s ps' Top (node FunctionDeclaration l (one (node Identifier m done) then many ps then one b then done)) + h.scopes s ps' i;
      named = λ u f d. (d.0, h.named u f d.1);
      resolved = λ p e d. ((d.0.0, d.0.1, (((d.0.2.0.0.0 ∙ e (first_text m.texts) (bound-first (bound_as m) fs'), d.0.2.0.0.1), d.0.2.0.1, tt), d.0.2.1)), h.resolved p (λ y g. e y (bound-later (bound_as m) fs' y g)) d.1);
    }
entered ts fs (other {k = k} {l = l} {gs = gs} {ts = ts'} as_in rest) =
    let h = entered ts' fs rest in
    record {
      lexical = subst (λ (z : List Bound). Inserted fs (declared false Top (node k l gs) ++ declared_among false Top ts') (z ++ declared_among false reads ts')) (declares-same k l gs as_in false) (inserted-right (declared false Top (node k l gs)) fs (declared_among false Top ts') (declared_among false reads ts') h.lexical);
      vars = subst (λ (z : List Bound). Inserted fs (z ++ declared_among true reads ts') (declared true Top (node k l gs) ++ declared_among true Top ts')) (declares-same k l gs as_in true) (inserted-right (declared true Top (node k l gs)) fs (declared_among true reads ts') (declared_among true Top ts') h.vars);
      scopes = λ s ps i. scopes-same k l gs as_in s ps i + h.scopes s ps i;
      named = λ u f d. (named-same k l gs as_in u f d.0, h.named u f d.1);
      resolved = λ p e d. (resolved-same k l gs as_in p d.0, h.resolved p e d.1);
    }

-- WHERE `var` DECLARES, asked of the names alone that a tree declares by `var`

bound-left : (es bs : List Bound) (y : Text) → bound_by es y ≡ true → bound_by (es ++ bs) y ≡ true
bound-left es bs y e = ap (λ z. is_some z) (sought-append es bs y) ∙ at (sought es y) e
  where
    at : (a : Option (Option ℕ)) → is_some a ≡ true → is_some (either_of a (sought bs y)) ≡ true
    at None e = absurd (cc e)
    at (Some s) e = refl

bound-right : (es bs : List Bound) (y : Text) → bound_by bs y ≡ true → bound_by (es ++ bs) y ≡ true
bound-right es bs y e = ap (λ z. is_some z) (sought-append es bs y) ∙ at (sought es y)
  where
    at : (a : Option (Option ℕ)) → is_some (either_of a (sought bs y)) ≡ true
    at None = e
    at (Some s) = refl

module _ (h : Text → Option ℕ) where
  abbrev Holds : List Bound → (Text → Option ℕ) → Type 0
  Holds bs g = (y : Text) → bound_by bs y ≡ true → h y ≡ g y

  holds-left : (es bs : List Bound) (g : Text → Option ℕ) → Holds (es ++ bs) g → Holds es g
  holds-left es bs g e y d = e y (bound-left es bs y d)

  holds-right : (es bs : List Bound) (g : Text → Option ℕ) → Holds (es ++ bs) g → Holds bs g
  holds-right es bs g e y d = e y (bound-right es bs y d)

  name-right : (p : Place) (r : Role) (l : Label) → Holds (own_declared true r Identifier l) p.hoist → OwnRight p r Identifier l → OwnRight (record p { hoist = h }) r Identifier l
  name-right p Nothing l e d = tt
  name-right p (Binds b) l e d = (at (hoists b) e d.0, d.1)
    where
      at : (v : Bool) → Holds (if v then bound_as l ∷ [] else []) p.hoist → symbol_of l ≡ (if v then p.hoist (first_text l.texts) else p.scope (first_text l.texts)) → symbol_of l ≡ (if v then h (first_text l.texts) else p.scope (first_text l.texts))
      at true e d = d ∙ sym (e (first_text l.texts) (bound-first (bound_as l) []))
      at false e d = d
  name-right p _ l e d = d

  own-hoist : (p : Place) (r : Role) (k : AstType) (l : Label) → Holds (own_declared true r k l) p.hoist → OwnRight p r k l → OwnRight (record p { hoist = h }) r k l
  own-hoist p r Identifier l e d = name-right p r l e d
  own-hoist p r _ l e d = tt

  abbrev placed_at : (ℕ → Text → Option ℕ) → (Text → Option ℕ) → (ℕ → Text → Bool) → ℕ → Place
  placed_at scopes g parameters i = record { scope = scopes i; hoist = g; parameters = parameters i }

  hoist-fields : (p : Place) (k : AstType) (l : Label) (roles : ℕ → Role) (fs : Fields) (v : Bool) → (Holds (declared_in true every roles fs) p.hoist → ResolvedIn roles (placed_at (λ i. (place_in p k l roles fs i).scope) p.hoist (λ i. parameters_in k l roles fs)) fs → ResolvedIn roles (placed_at (λ i. (place_in p k l roles fs i).scope) h (λ i. parameters_in k l roles fs)) fs) → Holds (declared_in true (λ i. not v) roles fs) p.hoist → ResolvedIn roles (placed_at (λ i. (place_in p k l roles fs i).scope) (if v then hoisting p k l roles fs else p.hoist) (λ i. parameters_in k l roles fs)) fs → ResolvedIn roles (placed_at (λ i. (place_in p k l roles fs i).scope) (if v then hoisting p k l roles fs else h) (λ i. parameters_in k l roles fs)) fs
  hoist-fields p k l roles fs true rest e d = d
  hoist-fields p k l roles fs false rest e d = rest e d

  mutual
    pub hoist-only : (r : Role) (p : Place) (t : Tree) → Holds (declared true r t) p.hoist → Resolved r p t → Resolved r (record p { hoist = h }) t
    hoist-only r p (node k l fs) e d =
        let mine = own_declared true r k l in
        let theirs = declared_in true (reaches_out true k) (role_at r k l fs) fs in
        (own-hoist p r k l (holds-left mine theirs p.hoist e) d.0, d.1, hoist-fields p k l (role_at r k l fs) fs (is_var_scope k) (λ a b. hoist-in (role_at r k l fs) (λ i. (place_in p k l (role_at r k l fs) fs i).scope) p.hoist (λ i. parameters_in k l (role_at r k l fs) fs) fs a b) (holds-right mine theirs p.hoist e) d.2)

    hoist-in : (roles : ℕ → Role) (scopes : ℕ → Text → Option ℕ) (g : Text → Option ℕ) (parameters : ℕ → Text → Bool) (fs : Fields) → Holds (declared_in true every roles fs) g → ResolvedIn roles (placed_at scopes g parameters) fs → ResolvedIn roles (placed_at scopes h parameters) fs
    hoist-in roles scopes g parameters done e d = tt
    hoist-in roles scopes g parameters (f then fs) e d =
        let first = declared_by true (roles zero) f in
        let rest = declared_in true every (λ i. roles (suc i)) fs in
        (hoist-by (roles zero) (placed_at scopes g parameters zero) f (holds-left first rest g e) d.0, hoist-in (λ i. roles (suc i)) (λ i. scopes (suc i)) g (λ i. parameters (suc i)) fs (holds-right first rest g e) d.1)

    hoist-by : (r : Role) (p : Place) (f : Field) → Holds (declared_by true r f) p.hoist → ResolvedBy r p f → ResolvedBy r (record p { hoist = h }) f
    hoist-by r p missing e d = tt
    hoist-by r p (one t) e d = hoist-only r p t e d
    hoist-by r p (many ts) e d = hoist-all r p ts e d
    hoist-by r p (statements ts) e d = hoist-all r p ts e d

    pub hoist-all : (r : Role) (p : Place) (ts : Trees) → Holds (declared_among true r ts) p.hoist → ResolvedAll r p ts → ResolvedAll r (record p { hoist = h }) ts
    hoist-all r p empty e d = tt
    hoist-all r p (t before ts) e d = (hoist-only r p t (holds-left (declared true r t) (declared_among true r ts) p.hoist e) d.0, hoist-all r p ts (holds-right (declared true r t) (declared_among true r ts) p.hoist e) d.1)

-- WHAT NAMES FIND, where the names fs go from those by `var`, which are vs, to the others, which are ls

module _ (fs ls ms vs ws : List Bound) (lexical : Inserted fs ls ms) (vars : Inserted fs ws vs) (apart : list_all (no_name_of ls) vs ≡ true) (apart-vars : list_all (no_name_of fs) ws ≡ true) (ps : Text → Bool) (apart-parameters : (y : Text) → bound_by fs y ≡ true → ps y ≡ false) (a : Text → Option ℕ) where
  lexical-none : (y : Text) → bound_by vs y ≡ true → sought ls y ≡ None
  lexical-none y e = at (sought ls y) refl
    where
      at : (o : Option (Option ℕ)) → sought ls y ≡ o → sought ls y ≡ None
      at None d = d
      at (Some s) d = let no : bound_by vs y ≡ false = ap (λ z. is_some z) (apart-names ls vs apart y (ap (λ z. is_some z) d)) in absurd (cc (e, no))

  pub look : (y : Text) → or_around (sought ms y) (if ps y then a y else or_around (sought ws y) (a y)) ≡ or_around (sought ls y) (if ps y then a y else or_around (sought vs y) (a y))
  look y = at (sought fs y) refl
    where
      at : (o : Option (Option ℕ)) → sought fs y ≡ o → or_around (sought ms y) (if ps y then a y else or_around (sought ws y) (a y)) ≡ or_around (sought ls y) (if ps y then a y else or_around (sought vs y) (a y))
      at None d = λ i. or_around (lexical.none y d i) (if ps y then a y else or_around (sym (vars.none y d) i) (a y))
      at (Some o) d =
          let bound : bound_by fs y ≡ true = ap (λ z. is_some z) d in
          let found : sought vs y ≡ Some o = vars.some y o d (apart-names fs ws apart-vars y bound) in
          let none : sought ls y ≡ None = lexical-none y (ap (λ z. is_some z) found) in
          (λ i. or_around (lexical.some y o d none i) (if ps y then a y else or_around (sought ws y) (a y))) ∙ sym (λ i. or_around (none i) (if apart-parameters y bound i then a y else or_around (found i) (a y)))

  -- a `var` declares what it declared
  pub look-var : (y : Text) → bound_by ws y ≡ true → (if ps y then a y else or_around (sought ws y) (a y)) ≡ (if ps y then a y else or_around (sought ls y) (if ps y then a y else or_around (sought vs y) (a y)))
  look-var y e = at (sought fs y) refl
    where
      in-both : (b : Bool) → sought ls y ≡ None → sought vs y ≡ sought ws y → (if b then a y else or_around (sought ws y) (a y)) ≡ (if b then a y else or_around (sought ls y) (if b then a y else or_around (sought vs y) (a y)))
      in-both true f g = refl
      in-both false f g = sym (λ i. or_around (f i) (or_around (g i) (a y)))

      at : (o : Option (Option ℕ)) → sought fs y ≡ o → (if ps y then a y else or_around (sought ws y) (a y)) ≡ (if ps y then a y else or_around (sought ls y) (if ps y then a y else or_around (sought vs y) (a y)))
      at None d = in-both (ps y) (lexical-none y (ap (λ z. is_some z) (vars.none y d) ∙ e)) (vars.none y d)
      at (Some o) d = let no : bound_by ws y ≡ false = ap (λ z. is_some z) (apart-names fs ws apart-vars y (ap (λ z. is_some z) d)) in absurd (cc (e, no))

  -- a function at the top is the body's
  pub look-function : (y : Text) → bound_by fs y ≡ true → (if ps y then a y else or_around (sought ls y) (if ps y then a y else or_around (sought vs y) (a y))) ≡ or_around (sought ls y) (if ps y then a y else or_around (sought vs y) (a y))
  look-function y e = λ i. if apart-parameters y e i then a y else or_around (sought ls y) (if ps y then a y else or_around (sought vs y) (a y))

  -- HOW MANY SCOPES bind a symbol, where those of the names are apart too
  pub count : (s : ℕ) → (binds s fs ≡ true → binds s ws ≡ false) → (binds s ls ≡ true → binds s vs ≡ false) → one_if (binds s ms) + one_if (list_any (is_var_of s ps) ws) ≡ one_if (binds s ls || list_any (is_var_of s ps) vs)
  count s e d = (λ i. one_if (lexical.any (is_it s) i) + one_if (list_any (is_var_of s ps) ws)) ∙ at (binds s fs) (binds s ls) refl refl ∙ sym (λ i. one_if (binds s ls || ((vars.any (is_var_of s ps) ∙ (λ j. none-is fs apart-parameters j || list_any (is_var_of s ps) ws)) i)))
    where
      all-false : (bs : List Bound) → binds s bs ≡ false → list_any (is_var_of s ps) bs ≡ false
      all-false [] f = refl
      all-false (b ∷ bs) f = λ i. (first (is_it s b) (binds s bs) f i && not (ps b.name)) || all-false bs (second (is_it s b) (binds s bs) f) i
        where
          first : (a b : Bool) → (a || b) ≡ false → a ≡ false
          first true b e = absurd (cc e)
          first false b e = refl

          second : (a b : Bool) → (a || b) ≡ false → b ≡ false
          second true b e = absurd (cc e)
          second false b e = e

      none-is : (bs : List Bound) → ((y : Text) → bound_by bs y ≡ true → ps y ≡ false) → list_any (is_var_of s ps) bs ≡ binds s bs
      none-is [] f = refl
      none-is (b ∷ bs) f = (λ i. (is_it s b && not (f b.name (bound-first b bs) i)) || none-is bs (λ y g. f y (bound-later b bs y g)) i) ∙ (λ i. and-true (is_it s b) i || binds s bs)
        where
          and-true : (v : Bool) → (v && true) ≡ v
          and-true true = refl
          and-true false = refl

      one-and : (b : Bool) → b ≡ false → 1 + one_if b ≡ 1
      one-and b f = λ i. 1 + one_if (f i)

      none-and : (b : Bool) → 0 + one_if b ≡ one_if b
      none-and true = refl
      none-and false = refl

      both-true : (l b : Bool) → 1 ≡ one_if (l || (true || b))
      both-true true b = refl
      both-true false b = refl

      later : (a b : Bool) → (a || b) ≡ false → b ≡ false
      later true b e = absurd (cc e)
      later false b e = e

      at : (f l : Bool) → binds s fs ≡ f → binds s ls ≡ l → one_if (f || l) + one_if (list_any (is_var_of s ps) ws) ≡ one_if (l || (f || list_any (is_var_of s ps) ws))
      at true l g k = one-and (list_any (is_var_of s ps) ws) (all-false ws (e g)) ∙ both-true l (list_any (is_var_of s ps) ws)
      at false true g k = one-and (list_any (is_var_of s ps) ws) (all-false ws (later (binds s fs) (binds s ws) (sym (vars.any (is_it s)) ∙ d k)))
      at false false g k = none-and (list_any (is_var_of s ps) ws)
