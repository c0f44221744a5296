-- What a declaration at the top of a module becomes inside the `try`: it declares the same names, by `var`, and each name finds what it found.
use Rattle.std.proofs.Common.{arith, ◌≤◌, ◌+◌, ◌≡◌, ℕ, zero, suc, refl, sym, ap, subst, ◌∙◌, List, [], ◌∷◌, ◌++◌}
use Rattle.std.specs.Prelude.{Bool, true, false, ◌||◌, ◌&&◌, Option, Some, None, bytes_eq, codes, is_some, if◌then◌else◌}
use Rattle.std.specs.List.{list_any}
use Rattle.std.proofs.lemmas.Bool.{and_parts}
use Rattle.es_tree.specs.HasForm.{has_form, trees_form}
use Rattle.es_tree.specs.Names.{first_text}
use Rattle.es_tree.specs.Tree.{Tree, node, Label, Fields, done, ◌then◌, Field, missing, one, many, Trees, empty, ◌before◌}
use Rattle.es_tree.specs.Words.{Text}
use Rattle.es_tree.specs.declared.ast_type.AstType.{AstType}
use Rattle.es_tree.specs.declared.ast_type.AstType.TheVariants.{ClassDeclaration, ClassExpression, Identifier, VariableDeclaration, VariableDeclarator}
use Rattle.es_tree.specs.declared.table.Sort.TheVariants.{Expression as s-Expression, VariableDeclarator as s-VariableDeclarator}
use Rattle.es_tree.proofs.NodeForm.{node_form}
use Rattle.es_semantic.specs.RolesOf.{binding_of, reads, role_at}
use Rattle.es_semantic.specs.declared.place.Binding.TheVariants.{Class, Constant, Let, Variable}
use Rattle.es_semantic.specs.declared.place.Role.{Role}
use Rattle.es_semantic.specs.declared.place.Role.TheVariants.{Binds, Top}
use Rattle.es_resolution.specs.Declarations.{Bound, declared, declared_among, declared_in, sought, symbol_of}
use Rattle.es_resolution.specs.Named.{IsBelow, Named, NamedAll, NamedIn}
use Rattle.es_resolution.specs.Resolved.{Place, no_name, or_around, Resolved, ResolvedAll, ResolvedIn}
use Rattle.es_resolution.specs.Single.{binds, is_it, one_if, scopes_among, scopes_in, scopes_with}
use Rattle.es_resolution.proofs.AllForms.{All}
use Rattle.es_resolution.proofs.Basics.{bytes_eq-self}
use Rattle.es_resolution.proofs.Declares.{declared-none}
use Rattle.es_resolution.proofs.MoreNames.{named-more, named-more-in, own-more}
use Rattle.es_resolution.proofs.Placed.{Placed}
use Rattle.es_steps.specs.Identifiers.{Passes, PassesAll}
use Rattle.es_steps.specs.Nodes.{identifier, made, word}
use Rattle.es_steps.specs.UsingBodies.{bound_as}
use Rattle.es_steps.proofs.Kept.{every}
use Rattle.es_steps.proofs.Stays.{stand}
use Rattle.es_steps.proofs.Written.{nil-right}
use Rattle.es_pattern_moves.proofs.Settled.{Sound}
use Rattle.es_using_modules.specs.ModuleTops.{by_var}
use Rattle.es_using_modules.proofs.TopMoves.{AllBecome, Becomes}
use Rattle.es_using_modules.proofs.TopMoves.AllBecome.{ended, more}
use Rattle.es_using_modules.proofs.TopMoves.Becomes.{as_is, passed}
use Rattle.es_using_modules.proofs.TopShifts.{Shift, both-shift-all, declares, flat, in_both, named-shift-all, resolved-shift-all, scopes-shift-all}
use Rattle.es_using_modules.proofs.TopShifts.Shift.{shifts}
use Rattle.es_using_modules.proofs.TopValues.{any-nil, declarators-silent, sunk-value, value-silent}

-- WHAT IS KNOWN of the top before and after: the names in use and the next free symbol, what names find, and the names that are made: that of a default
-- export, which may be that of the context, and that of the context

pub record IsKnown (u : Text → Bool) (f : ℕ) (S : Text → Option ℕ) (b : Bound) : Type 0 where
  pub used : u b.name ≡ true
  pub below : IsBelow f b.symbol
  pub found : S b.name ≡ b.symbol
  pub some : is_some b.symbol ≡ true

pub record Setting : Type 0 where
  pub u : Text → Bool
  pub u' : Text → Bool
  pub f : ℕ
  pub f' : ℕ
  pub wider : (y : Text) → u y ≡ true → u' y ≡ true
  pub freer : f ≤ f'
  pub S : Text → Option ℕ
  pub S' : Text → Option ℕ
  pub agree : (y : Text) → u y ≡ true → S' y ≡ S y
  pub default : Bound
  pub context : Bound
  pub default_known : IsKnown u' f' S' default
  pub context_known : IsKnown u' f' S' context

-- a test that words and the made names pass
pub record Fits (g : Setting) (q : Text → Option ℕ → Bool) : Type 0 where
  pub words : (x : Text) → q x None ≡ true
  pub default : q g.default.name g.default.symbol ≡ true
  pub context : q g.context.name g.context.symbol ≡ true

module _ (g : Setting) where
  abbrev pub there : Place
  there = flat g.S no_name

  abbrev pub here : Place
  here = flat g.S' no_name

  pub stood : (r : Role) (t : Tree) → Named g.u g.f r t → Resolved r there t → Resolved r here t
  stood r t n d = stand g.u g.f r there here g.agree g.agree (λ y e. refl) t n d

  pub still : (r : Role) (t : Tree) → Named g.u g.f r t → Named g.u' g.f' r t
  still r t n = named-more g.u g.u' g.wider g.f g.f' g.freer r t n

  -- what is known of a tree at the top
  pub record Has (t : Tree) : Type 0 where
    pub above : AstType
    pub last : Bool
    pub sound : All Sound t
    pub placed : Placed above last t
    pub named : Named g.u g.f Top t
    pub resolved : Resolved Top there t

  -- what is known of what it becomes inside, where it declares these names more
  pub record Inner (news : List Bound) (t v : Tree) : Type 0 where
    pub both : (q : Bound → Bool) → in_both q (declared false reads v) (declared true reads v) ≡ (list_any q news || in_both q (declared false Top t) (declared true Top t))
    pub silent : declared false reads v ≡ []
    pub scopes : (s : ℕ) → scopes_with s no_name reads v ≡ scopes_with s no_name Top t
    pub named : Named g.u' g.f' reads v
    pub resolved : Resolved reads here v
    pub passes : (q : Text → Option ℕ → Bool) → Fits g q → Passes q t → Passes q v

  -- VARIABLES, whose values may be passed to the context

  abbrev var_role : Role
  var_role = Binds Variable

  record Taken (ds es : Trees) : Type 0 where
    lists : (v : Bool) → declared_among v var_role es ≡ declared_among v var_role ds
    scopes : (s : ℕ) → scopes_among s no_name var_role es ≡ scopes_among s no_name var_role ds
    named : NamedAll g.u g.f var_role ds → NamedAll g.u' g.f' var_role es
    resolved : NamedAll g.u g.f var_role ds → ResolvedAll var_role there ds → ResolvedAll var_role here es
    passes : (q : Text → Option ℕ → Bool) → Fits g q → PassesAll q ds → PassesAll q es

  call-flat : (xs ys : List Bound) → xs ++ (((ys ++ []) ++ []) ++ []) ≡ xs ++ (ys ++ [])
  call-flat xs ys = simp nil-right

  taken-one : (d e : Tree) (ds es : Trees) → Becomes g.context d e → Taken ds es → Taken (d before ds) (e before es)
  taken-one d e ds es (as_is _) h = record {
    lists = λ v i. declared v var_role d ++ h.lists v i;
    scopes = λ s i. scopes_with s no_name var_role d + h.scopes s i;
    named = λ n. (still var_role d n.0, h.named n.1);
    resolved = λ n r. (stood var_role d n.0 r.0, h.resolved n.1 r.1);
    passes = λ q k p. (p.0, h.passes q k p.1);
  }
  taken-one d e ds es (passed l x y) h = record {
    lists = lists;
    scopes = λ s. let a = h.scopes s in omega arith;
    named = λ n. (((own-more g.u g.u' g.wider g.f g.f' g.freer var_role VariableDeclarator l n.0.0), (still var_role x n.0.1.0, (((tt, tt), (((tt, tt), (((g.context_known.used, g.context_known.below), tt), (((tt, tt), tt), tt))), ((still reads y n.0.1.1.0, tt), tt))), tt))), h.named n.1);
    resolved = λ n r.
        let rx = stood var_role x n.0.1.0 r.0.2.0 in
        let ry = stood reads y n.0.1.1.0 r.0.2.1.0 in
        ((tt, refl, (rx, ((tt, refl, ((tt, refl, ((sym g.context_known.found, refl, tt), ((tt, refl, tt), tt))), ((ry, tt), tt))), tt))), h.resolved n.1 r.1);
    passes = λ q k p. ((tt, (p.0.1.0, ((tt, ((tt, ((k.context, tt), ((k.words (codes "u"), tt), tt))), ((p.0.1.1.0, tt), tt))), tt))), h.passes q k p.1);
  }
    where
      lists : (v : Bool) → declared_among v var_role (e before es) ≡ declared_among v var_role (d before ds)
      lists true = λ i. call-flat (declared true var_role x) (declared true reads y) i ++ h.lists true i
      lists false = λ i. call-flat (declared false var_role x) (declared false reads y) i ++ h.lists false i

  taken : (ds es : Trees) → AllBecome g.context ds es → Taken ds es
  taken ds es ended = record { lists = λ v. refl; scopes = λ s. refl; named = λ n. tt; resolved = λ n r. tt; passes = λ q k p. tt }
  taken ds es (more {d = d} {e = e} {ds = ds'} {es = es'} it rest) = taken-one d e ds' es' it (taken ds' es' rest)

  word-declares : (word : Text) → declares (binding_of word) ≡ true
  word-declares word = at (bytes_eq word (codes "var")) (bytes_eq word (codes "let"))
    where
      at : (a b : Bool) → declares (if a then Variable else if b then Let else Constant) ≡ true
      at true b = refl
      at false true = refl
      at false false = refl

  pub variables-inner : (l : Label) (ds es : Trees) → AllBecome g.context ds es → Has (node VariableDeclaration l (many ds then done)) → Inner [] (node VariableDeclaration l (many ds then done)) (node VariableDeclaration (by_var l) (many es then done))
  variables-inner l ds es a h =
      let b = binding_of (first_text l.texts) in
      let shift : Shift (Binds b) (Binds Variable) = shifts (word-declares (first_text l.texts)) refl in
      let k = taken ds es a in
      let named = named-shift-all g.u g.f shift ds h.named.1.0 in
      let form : trees_form s-VariableDeclarator s-VariableDeclarator ds ≡ true = declarators-form l ds h.sound.0 in
      record {
        both = λ q.
            (λ i. any-nil q (k.lists false i) i || any-nil q (k.lists true i) i)
            ∙ sym (both-shift-all q shift ds)
            ∙ sym (λ i. any-nil q (declared_among false (Binds b) ds) i || any-nil q (declared_among true (Binds b) ds) i);
        silent = λ i. (k.lists false ∙ declarators-silent ds form h.sound.1.0) i ++ [];
        scopes = λ s. let c = k.scopes s in let e = scopes-shift-all s no_name shift ds in omega arith;
        named = ((tt, (own-more g.u g.u' g.wider g.f g.f' g.freer Top VariableDeclaration l h.named.0).1), (k.named named, tt));
        resolved = (tt, refl, (k.resolved named (resolved-shift-all shift g.S no_name ds h.resolved.2.0), tt));
        passes = λ q fits p. (tt, (k.passes q fits p.1.0, tt));
      }
    where
      declarators-form : (l : Label) (ds : Trees) → Sound VariableDeclaration l (many ds then done) → trees_form s-VariableDeclarator s-VariableDeclarator ds ≡ true
      declarators-form l empty s = refl
      declarators-form l (d before ds) s = (and_parts (trees_form s-VariableDeclarator s-VariableDeclarator (d before ds)) true (node_form s.sort VariableDeclaration l (many (d before ds) then done) s.form).children).0

  -- `var x = e`

  abbrev pub variable_node : Bound → Tree → Tree
  variable_node x e = node VariableDeclaration (made (Some (codes "var") ∷ []) []) (many (node VariableDeclarator (made [] []) (one (identifier x) then one e then done) before empty) then done)

  thrice : (bs : List Bound) → ((bs ++ []) ++ []) ++ [] ≡ bs
  thrice bs = simp nil-right

  -- what is known of the value, which stands for this at the top
  record IsValue (t e : Tree) : Type 0 where
    silent : declared false reads e ≡ []
    scopes : (s : ℕ) → scopes_with s no_name reads e ≡ scopes_with s no_name Top t
    named : Named g.u' g.f' reads e
    resolved : Resolved reads here e
    passes : (q : Text → Option ℕ → Bool) → Fits g q → Passes q t → Passes q e

  variable-inner : (news : List Bound) (t : Tree) (x : Bound) (e : Tree) → IsKnown g.u' g.f' g.S' x → IsValue t e → ((q : Text → Option ℕ → Bool) → Fits g q → Passes q t → q x.name x.symbol ≡ true) →
      ((q : Bound → Bool) → (q x || list_any q (declared true reads e)) ≡ (list_any q news || in_both q (declared false Top t) (declared true Top t))) → Inner news t (variable_node x e)
  variable-inner news t x e k h name sum = record {
    both = λ q. (λ i. list_any q (((h.silent i ++ []) ++ []) ++ []) || (q x || list_any q (thrice (declared true reads e) i))) ∙ sum q;
    silent = λ i. ((h.silent i ++ []) ++ []) ++ [];
    scopes = λ s. let a = h.scopes s in omega arith;
    named = ((tt, tt), ((((tt, tt), (((k.used, k.below), tt), (h.named, tt))), tt), tt));
    resolved = (tt, refl, (((tt, refl, (((sym k.found, k.some), refl, tt), (h.resolved, tt))), tt), tt));
    passes = λ q fits p. (tt, (((tt, ((name q fits p, tt), (h.passes q fits p, tt))), tt), tt));
  }

  -- A DEFAULT EXPORT of an expression

  pub value-inner : (e : Tree) → has_form s-Expression e ≡ true → Has e → Inner (g.default ∷ []) e (variable_node g.default e)
  value-inner e f h =
      let k = sunk-value e f in
      let silent = value-silent e f h.sound in
      variable-inner (g.default ∷ []) e g.default e g.default_known
      (record { silent = silent; scopes = k.scopes; named = still reads e (k.named g.u g.f h.named); resolved = stood reads e (k.named g.u g.f h.named) (k.resolved g.S h.resolved); passes = λ q fits p. p })
      (λ q fits p. fits.default) (λ q. nothing-more (q g.default) (list_any q (declared true reads e)) ∙ ap (λ v. (q g.default || false) || v) ((λ i. list_any q (sym silent i) || list_any q (declared true reads e)) ∙ k.both q))
    where
      nothing-more : (a b : Bool) → (a || b) ≡ ((a || false) || b)
      nothing-more true b = refl
      nothing-more false b = refl

  -- CLASSES: what stands in one stays where it is

  class-roles : (l : Label) (w w' : Field) (fs : Fields) (i : ℕ) → role_at Top ClassDeclaration l (w then fs) (suc i) ≡ role_at reads ClassExpression l (w' then fs) (suc i)
  class-roles l w w' fs zero = refl
  class-roles l w w' fs (suc zero) = refl
  class-roles l w w' fs (suc (suc i)) = refl

  module _ (l : Label) (w w' : Field) (fs : Fields) where
    abbrev old_roles : ℕ → Role
    old_roles i = role_at Top ClassDeclaration l (w then fs) (suc i)

    abbrev new_roles : ℕ → Role
    new_roles i = role_at reads ClassExpression l (w' then fs) (suc i)

    roles : old_roles ≡ new_roles
    roles j i = class-roles l w w' fs i j

  abbrev class_place : List Bound → Place
  class_place bs = record { scope = λ y. or_around (sought bs y) (g.S' y); hoist = g.S'; parameters = no_name }

  twice-sought : (n : Bound) (bs : List Bound) → class_place (n ∷ bs) ≡ class_place (n ∷ n ∷ bs)
  twice-sought n bs j = record { scope = λ y. or_around (at y (bytes_eq n.name y) j) (g.S' y); hoist = g.S'; parameters = no_name }
    where
      at : (y : Text) (v : Bool) → (if v then Some n.symbol else sought bs y) ≡ (if v then Some n.symbol else (if v then Some n.symbol else sought bs y))
      at y true = refl
      at y false = refl

  twice-bound : (a b : Bool) → (a || (a || b)) ≡ (a || b)
  twice-bound true b = refl
  twice-bound false b = refl

  around-none : (a b : Bool) → ((a || false) || b) ≡ (a || b)
  around-none true b = refl
  around-none false b = refl

  -- with a name
  module _ (l cl : Label) (fs : Fields) (h : Has (node ClassDeclaration l (one (node Identifier cl done) then fs))) where
    abbrev it : Bound
    it = bound_as cl

    abbrev inner_name : Bound
    inner_name = record it { symbol = symbol_of l }

    -- with the symbol inside
    abbrev new_name : Tree
    new_name = node Identifier (record cl { marks = symbol_of l ∷ [] }) done

    abbrev old_class : Tree
    old_class = node ClassDeclaration l (one (node Identifier cl done) then fs)

    abbrev new_class : Tree
    new_class = node ClassExpression l (one new_name then fs)

    abbrev ors : ℕ → Role
    ors = old_roles l (one (node Identifier cl done)) (one new_name) fs

    abbrev nrs : ℕ → Role
    nrs = new_roles l (one (node Identifier cl done)) (one new_name) fs

    same : ors ≡ nrs
    same = roles l (one (node Identifier cl done)) (one new_name) fs

    own : IsBelow g.f' (symbol_of l)
    own = (own-more g.u g.u' g.wider g.f g.f' g.freer Top ClassDeclaration l h.named.0).1

    found : Resolved Top here old_class
    found = stood Top old_class h.named h.resolved

    marked : is_some (symbol_of l) ≡ true
    marked = and_first (is_some (symbol_of l)) found.1
      where
        and_first : (a : Bool) → (a && true) ≡ true → a ≡ true
        and_first true e = refl
        and_first false e = e

    known : IsKnown g.u' g.f' g.S' it
    known = record { used = g.wider (first_text cl.texts) h.named.1.0.0.0; below = (still (Binds Class) (node Identifier cl done) h.named.1.0).0.1; found = sym found.2.0.0.0; some = found.2.0.0.1 }

    inside-right : ResolvedIn nrs (λ i. class_place (inner_name ∷ inner_name ∷ declared_in false every nrs fs)) fs
    inside-right =
        subst (λ (rs : ℕ → Role). ResolvedIn rs (λ i. class_place (inner_name ∷ inner_name ∷ declared_in false every rs fs)) fs) same
        (subst (λ (p : Place). ResolvedIn ors (λ i. p) fs) (twice-sought inner_name (declared_in false every ors fs)) found.2.1)

    name-right : symbol_of l ≡ (class_place (inner_name ∷ inner_name ∷ declared_in false every nrs fs)).scope (first_text cl.texts)
    name-right = sym (λ i. or_around (if bytes_eq-self (first_text cl.texts) i then Some (symbol_of l) else (if bytes_eq (first_text cl.texts) (first_text cl.texts) then Some (symbol_of l) else sought (declared_in false every nrs fs) (first_text cl.texts))) (g.S' (first_text cl.texts)))

    class-scopes : (s : ℕ) → scopes_with s no_name reads new_class ≡ scopes_with s no_name Top old_class
    class-scopes s =
        let a : one_if ((is_it s inner_name || (is_it s inner_name || binds s (declared_in false every nrs fs))) || false) ≡ one_if ((is_it s inner_name || binds s (declared_in false every ors fs)) || false) = (λ i. one_if (twice-bound (is_it s inner_name) (binds s (declared_in false every nrs fs)) i || false)) ∙ (λ i. one_if ((is_it s inner_name || binds s (declared_in false every (sym same i) fs)) || false)) in
        let b : scopes_in s no_name nrs fs ≡ scopes_in s no_name ors fs = λ i. scopes_in s no_name (sym same i) fs in
        omega arith

    class-value : IsValue old_class new_class
    class-value = record {
      silent = declared-none false nrs fs;
      scopes = class-scopes;
      named = ((tt, own), (((g.wider (first_text cl.texts) h.named.1.0.0.0, own), tt), subst (λ (rs : ℕ → Role). NamedIn g.u' g.f' rs fs) same (named-more-in g.u g.u' g.wider g.f g.f' g.freer ors fs h.named.1.1)));
      resolved = (tt, found.1, (((name-right, marked), refl, tt), inside-right));
      passes = λ q fits p. ((tt, p.0.1), ((p.0.1, tt), p.1.1));
    }

    pub class-inner : Inner [] old_class (variable_node it new_class)
    class-inner = variable-inner [] old_class it new_class known class-value (λ q fits p. p.1.0.0) (λ q.
        sym ((λ i. (q it || list_any q (declared-none false ors fs i)) || list_any q (declared_in true every ors fs)) ∙ around-none (q it) (list_any q (declared_in true every ors fs)) ∙ (λ i. q it || list_any q (declared_in true every (same i) fs))))

  -- without a name
  module _ (l : Label) (fs : Fields) (h : Has (node ClassDeclaration l (missing then fs))) where
    abbrev bare_class_old : Tree
    bare_class_old = node ClassDeclaration l (missing then fs)

    abbrev bare_class_new : Tree
    bare_class_new = node ClassExpression l (missing then fs)

    abbrev bors : ℕ → Role
    bors = old_roles l missing missing fs

    abbrev bnrs : ℕ → Role
    bnrs = new_roles l missing missing fs

    bare-same : bors ≡ bnrs
    bare-same = roles l missing missing fs

    bare-scopes : (s : ℕ) → scopes_with s no_name reads bare_class_new ≡ scopes_with s no_name Top bare_class_old
    bare-scopes s =
        let a : one_if (binds s (declared_in false every bnrs fs) || false) ≡ one_if (binds s (declared_in false every bors fs) || false) = λ i. one_if (binds s (declared_in false every (sym bare-same i) fs) || false) in
        let b : scopes_in s no_name bnrs fs ≡ scopes_in s no_name bors fs = λ i. scopes_in s no_name (sym bare-same i) fs in
        omega arith

    bare-value : IsValue bare_class_old bare_class_new
    bare-value =
        let found = stood Top bare_class_old h.named h.resolved in
        record {
          silent = declared-none false bnrs fs;
          scopes = bare-scopes;
          named = ((tt, (own-more g.u g.u' g.wider g.f g.f' g.freer Top ClassDeclaration l h.named.0).1), (tt, subst (λ (rs : ℕ → Role). NamedIn g.u' g.f' rs fs) bare-same (named-more-in g.u g.u' g.wider g.f g.f' g.freer bors fs h.named.1.1)));
          resolved = (tt, refl, (tt, subst (λ (rs : ℕ → Role). ResolvedIn rs (λ i. class_place (declared_in false every rs fs)) fs) bare-same found.2.1));
          passes = λ q fits p. p;
        }

    pub bare-inner : Inner (g.default ∷ []) bare_class_old (variable_node g.default bare_class_new)
    bare-inner = variable-inner (g.default ∷ []) bare_class_old g.default bare_class_new g.default_known bare-value (λ q fits p. fits.default) (λ q.
        sym ((λ i. (q g.default || false) || (list_any q (declared-none false bors fs i) || list_any q (declared_in true every bors fs))) ∙ around-none (q g.default) (list_any q (declared_in true every bors fs)) ∙ (λ i. q g.default || list_any q (declared_in true every (bare-same i) fs))))
