-- WRAP of the body of a function.
use Rattle.std.proofs.Common.{arith, ◌+◌, ◌≡◌, ℕ, refl, sym, ap, subst, ◌∙◌, List, [], ◌++◌}
use Rattle.std.specs.Prelude.{Bool, true, false, ◌&&◌, ◌||◌, Option, None, is_some, codes, if◌then◌else◌}
use Rattle.std.specs.List.{list_any, list_all}
use Rattle.es_tree.specs.Words.{Text}
use Rattle.es_tree.specs.Tree.{Tree, node, Label, Fields, done, ◌then◌, Field, one, many, statements, Trees, empty, ◌before◌}
use Rattle.es_tree.specs.declared.ast_type.AstType.{AstType}
use Rattle.es_tree.specs.declared.ast_type.AstType.TheVariants.{ArrowFunctionExpression, ClassDeclaration, ClassExpression, FunctionBody, FunctionDeclaration, FunctionExpression, Identifier, StaticBlock}
use Rattle.es_semantic.specs.RolesOf.{reads, role_at}
use Rattle.es_semantic.specs.declared.place.Binding.TheVariants.{BlockFunction, Class}
use Rattle.es_semantic.specs.declared.place.Role.{Role}
use Rattle.es_semantic.specs.declared.place.Role.TheVariants.{Binds, Top}
use Rattle.es_resolution.specs.Called.{Called, CalledAll}
use Rattle.es_resolution.specs.Declarations.{Bound, sought, declared, declared_by, declared_among}
use Rattle.es_resolution.specs.Named.{Named, NamedAll}
use Rattle.es_resolution.specs.Resolved.{Place, or_around, within, bound_by, no_name, class_frame, place_in, Resolved, ResolvedIn, ResolvedAll}
use Rattle.es_resolution.specs.Single.{binds, is_var_of, one_if, scopes_with, scopes_among}
use Rattle.es_semantic.specs.Places.{is_inside}
use Rattle.es_steps.specs.Nodes.{made, joined_trees}
use Rattle.es_steps.specs.Rules.{next_name}
use Rattle.es_steps.specs.Steps.{Whole, Ledger, Site, Spot, at_node}
use Rattle.es_steps.specs.UsingBlocks.{block_of, error_of, protected, Constants, TakesContext}
use Rattle.es_steps.specs.UsingBodies.{Directives, TopFunctions, MayEnter, parameters_of, body, in_body, in_static_block, function_fields, arrow_fields, static_block, class_fields, IsClass, BodyUsing}
use Rattle.es_steps.specs.UsingBodies.BodyUsing.{of_declaration, of_expression, of_arrow, of_static_block}
use Rattle.es_steps.specs.UsingBodies.IsClass.{class_declaration, class_expression}
use Rattle.es_steps.specs.UsingBodies.Directives.{no_directive, directive}
use Rattle.es_steps.specs.UsingBodies.TopFunctions.{no_function, function, other}
use Rattle.es_steps.proofs.Apartness.{named_so, declared-called, declared-called-all, apart-symbols}
use Rattle.es_steps.proofs.Inserted.{apart-names}
use Rattle.es_steps.proofs.Kept.{plain, Kept}
use Rattle.es_steps.proofs.Kept.Change.{below, sealed}
use Rattle.es_steps.proofs.RuleLaws.{AtNodes, called-only}
use Rattle.es_steps.proofs.Same.{as-one, as-many, left-trees, same-all}
use Rattle.es_steps.proofs.Settled.{Settled, through, first, second, third, alone}
use Rattle.es_steps.proofs.Taken.{whole_in, NodesKept, Outcome, Lawful, called-joined}
use Rattle.es_steps.proofs.TopFunctions.{Entered, entered, hoist-all, look, look-var, look-function, count}
use Rattle.es_steps.proofs.Wraps.{k, constants, wrapped, taking}
use Rattle.es_steps.proofs.Written.{nil-right, kept-joined, named-joined}

-- DIRECTIVES hold no names

directives-none : (ds : Trees) → Directives ds → (v : Bool) → declared_among v reads ds ≡ []
directives-none ds no_directive v = refl
directives-none ds (directive h) v = directives-none _ h v

directives-resolved : (p : Place) (ds : Trees) → Directives ds → ResolvedAll reads p ds
directives-resolved p ds no_directive = tt
directives-resolved p ds (directive h) = ((tt, refl, tt), directives-resolved p _ h)

-- functions have the names of their symbols
and-both : (a b : Bool) → (a && true) ≡ true → b ≡ true → (a && b) ≡ true
and-both true b e d = d
and-both false b e d = e

functions-called : (called : ℕ → Text) (ts : Trees) (fs : List Bound) → TopFunctions ts fs → CalledAll called ts → list_all (named_so called) fs ≡ true
functions-called called ts fs no_function h = refl
functions-called called ts fs (function {m = m} {ts = ts'} {fs = fs'} rest) h = and-both (named_so called _) (list_all (named_so called) fs') (declared-called called false (Binds BlockFunction) (node Identifier m done) h.0.1.0) (functions-called called ts' fs' rest h.1)
functions-called called ts fs (other {ts = ts'} as_in rest) h = functions-called called ts' fs rest h.1

or-nothing : (b : Bool) → (b || false) ≡ b
or-nothing true = refl
or-nothing false = refl

twice : (b : Bool) (x z : Option ℕ) → (if b then x else (if b then x else z)) ≡ (if b then x else z)
twice true x z = refl
twice false x z = refl

-- THE BODY, where its statements are put into a block

module _ (called : ℕ → Text) (l : Label) (ds ts : Trees) (qs fs : List Bound) (directives : Directives ds) (may : MayEnter qs fs ts) (names : CalledAll called ts) where
  abbrev ps : Text → Bool
  ps = bound_by (qs ++ [])

  abbrev block : Trees
  block = block_of (made [] []) ts before empty

  abbrev ls : List Bound
  ls = declared_among false Top ts

  abbrev vs : List Bound
  vs = declared_among true Top ts

  abbrev ms : List Bound
  ms = declared_among false reads ts

  abbrev ws : List Bound
  ws = declared_among true reads ts

  enters : Entered ts fs
  enters = entered ts fs may.functions

  apart-parameters : (y : Text) → bound_by fs y ≡ true → ps y ≡ false
  apart-parameters y e = (λ i. is_some (sought (nil-right qs i) y)) ∙ ap (λ z. is_some z) (apart-names fs qs may.parameters y e)

  -- what the body binds before and after
  abbrev lex-names : List Bound
  lex-names = declared_among false reads ds ++ (ls ++ [])

  abbrev var-names : List Bound
  var-names = declared_among true reads ds ++ (vs ++ [])

  abbrev lex-after : List Bound
  lex-after = declared_among false reads ds ++ []

  abbrev var-after : List Bound
  var-after = declared_among true reads ds ++ (((ws ++ []) ++ []) ++ [])

  lex-first : lex-names ≡ ls
  lex-first = (λ i. directives-none ds directives false i ++ (ls ++ [])) ∙ nil-right ls

  var-first : var-names ≡ vs
  var-first = (λ i. directives-none ds directives true i ++ (vs ++ [])) ∙ nil-right vs

  lex-last : lex-after ≡ []
  lex-last = λ i. directives-none ds directives false i ++ []

  var-last : var-after ≡ ws
  var-last = (λ i. directives-none ds directives true i ++ (((ws ++ []) ++ []) ++ [])) ∙ nil-right ((ws ++ []) ++ []) ∙ nil-right (ws ++ []) ∙ nil-right ws

  module _ (a : Text → Option ℕ) where
    -- what is found inside a scope with these names and these by `var`
    abbrev found : List Bound → List Bound → Text → Option ℕ
    found bs cs y = or_around (sought bs y) (if ps y then a y else or_around (sought cs y) (a y))

    abbrev spot : List Bound → List Bound → Place
    spot bs cs = record { scope = found bs cs; hoist = λ y. if ps y then a y else found bs cs y; parameters = no_name }

    abbrev block_spot : List Bound → List Bound → List Bound → Place
    block_spot ds bs cs = record { scope = λ y. or_around (sought ds y) (found bs cs y); hoist = λ y. if ps y then a y else found bs cs y; parameters = no_name }

    abbrev hoisted : Text → Option ℕ
    hoisted y = if ps y then a y else or_around (sought ws y) (a y)

    the-look : (y : Text) → found ms ws y ≡ found ls vs y
    the-look y = look fs ls ms vs ws enters.lexical enters.vars may.lexical may.vars ps apart-parameters a y

    -- from a place in the block, a name finds what it found in the body
    pub block-look : (y : Text) → or_around (sought (ms ++ []) y) (found lex-after var-after y) ≡ found lex-names var-names y
    block-look y = (λ i. or_around (sought (nil-right ms i) y) (found (lex-last i) (var-last i) y)) ∙ the-look y ∙ sym (λ i. found (lex-first i) (var-first i) y)

    in-block : ResolvedAll Top (spot lex-names var-names) ts → ResolvedAll reads (block_spot (ms ++ []) lex-after var-after) ts
    in-block d =
        let one : ResolvedAll Top (spot ls vs) ts = subst (λ (z : Place). ResolvedAll Top z ts) (λ i. spot (lex-first i) (var-first i)) d in
        let two : ResolvedAll reads (spot ls vs) ts = enters.resolved (spot ls vs) (λ y e. look-function fs ls ms vs ws enters.lexical enters.vars may.lexical may.vars ps apart-parameters a y e) one in
        let three : ResolvedAll reads (record { scope = found ls vs; hoist = hoisted; parameters = no_name }) ts = hoist-all hoisted reads (spot ls vs) ts (λ y e. look-var fs ls ms vs ws enters.lexical enters.vars may.lexical may.vars ps apart-parameters a y e) two in
        let four : ResolvedAll reads (record { scope = found ms ws; hoist = hoisted; parameters = no_name }) ts = subst (λ (z : Text → Option ℕ). ResolvedAll reads (record { scope = z; hoist = hoisted; parameters = no_name }) ts) (sym (λ i y. the-look y i)) three in
        let five : ResolvedAll reads (block_spot ms [] ws) ts = subst (λ (z : Text → Option ℕ). ResolvedAll reads (record { scope = found ms ws; hoist = z; parameters = no_name }) ts) (sym (λ i y. twice (ps y) (a y) (or_around (sought ws y) (a y)) i)) four in
        subst (λ (z : Place). ResolvedAll reads z ts) (sym (λ i. block_spot (nil-right ms i) (lex-last i) (var-last i))) five

    pub body-resolved : (h : Text → Option ℕ) → Resolved reads (record { scope = a; hoist = h; parameters = ps }) (body l ds ts) → Resolved reads (record { scope = a; hoist = h; parameters = ps }) (body l ds block)
    body-resolved h d = (tt, refl, (directives-resolved _ ds directives, (((tt, refl, (in-block d.2.1.0, tt)), tt), tt)))

  pub body-scopes : (s : ℕ) → scopes_with s ps reads (body l ds block) ≡ scopes_with s ps reads (body l ds ts)
  body-scopes s =
      let first : one_if (binds s lex-names || list_any (is_var_of s ps) var-names) ≡ one_if (binds s ls || list_any (is_var_of s ps) vs) = λ i. one_if (binds s (lex-first i) || list_any (is_var_of s ps) (var-first i)) in
      let last : one_if (binds s lex-after || list_any (is_var_of s ps) var-after) ≡ one_if (list_any (is_var_of s ps) ws) = λ i. one_if (binds s (lex-last i) || list_any (is_var_of s ps) (var-last i)) in
      let inside : one_if (binds s (ms ++ []) || false) ≡ one_if (binds s ms) = (λ i. one_if (binds s (nil-right ms i) || false)) ∙ ap one_if (or-nothing (binds s ms)) in
      let counted : one_if (binds s ms) + one_if (list_any (is_var_of s ps) ws) ≡ one_if (binds s ls || list_any (is_var_of s ps) vs) = count fs ls ms vs ws enters.lexical enters.vars may.lexical may.vars ps apart-parameters a-place s
      (apart-symbols called fs ws (functions-called called ts fs may.functions names) (declared-called-all called true reads ts names) may.vars s)
      (apart-symbols called ls vs (declared-called-all called false Top ts names) (declared-called-all called true Top ts names) may.lexical s) in
      let rest : scopes_among s no_name Top ts ≡ scopes_among s no_name reads ts = enters.scopes s no_name in
      omega arith
    where
      a-place : Text → Option ℕ
      a-place y = None

  pub body-named : (u : Text → Bool) (f : ℕ) → Named u f reads (body l ds ts) → Named u f reads (body l ds block)
  body-named u f h = (h.0, (h.1.0, ((((tt, tt), (enters.named u f h.1.1.0, tt)), tt), tt)))

-- THE FUNCTION around it

abbrev pub inner_place : Place → Role → AstType → Label → Fields → ℕ → Place
inner_place p r k m fs i = place_in p k m (role_at r k m fs) fs i

abbrev pub inner_block : Trees → Trees
inner_block ts = block_of (made [] []) ts before empty

module _ (w : Whole) (b : Place) (r : Role) (m l : Label) (ps ds ts : Trees) (fs : List Bound) (directives : Directives ds) (may : MayEnter (parameters_of ps) fs ts) (names : CalledAll w.called ts) where
  abbrev first_body : Tree
  first_body = body l ds ts

  abbrev next_body : Tree
  next_body = body l ds (inner_block ts)

  body-scopes-of : (s : ℕ) → scopes_with s (bound_by (parameters_of ps ++ [])) reads next_body ≡ scopes_with s (bound_by (parameters_of ps ++ [])) reads first_body
  body-scopes-of = body-scopes w.called l ds ts (parameters_of ps) fs directives may names

  settled-declaration : (f : Field) → Settled b r (node FunctionDeclaration m (function_fields f ps first_body)) (node FunctionDeclaration m (function_fields f ps next_body))
  settled-declaration f = record {
    kind = refl;
    own = refl;
    declares = each;
    scopes = λ s qs. let e = body-scopes-of s in omega arith;
    resolved = λ p look d. (d.0, d.1, (d.2.0, (d.2.1.0, (body-resolved w.called l ds ts (parameters_of ps) fs directives may names (inner_place p r FunctionDeclaration m (function_fields f ps first_body) 2).scope (inner_place p r FunctionDeclaration m (function_fields f ps first_body) 2).hoist d.2.1.1.0, tt))));
  }
    where
      each : (v : Bool) → declared v r (node FunctionDeclaration m (function_fields f ps next_body)) ≡ declared v r (node FunctionDeclaration m (function_fields f ps first_body))
      each true = refl
      each false = refl

  settled-expression : (f : Field) → Settled b r (node FunctionExpression m (function_fields f ps first_body)) (node FunctionExpression m (function_fields f ps next_body))
  settled-expression f = record {
    kind = refl;
    own = refl;
    declares = each;
    scopes = λ s qs. let e = body-scopes-of s in omega arith;
    resolved = λ p look d. (d.0, d.1, (d.2.0, (d.2.1.0, (body-resolved w.called l ds ts (parameters_of ps) fs directives may names (inner_place p r FunctionExpression m (function_fields f ps first_body) 2).scope (inner_place p r FunctionExpression m (function_fields f ps first_body) 2).hoist d.2.1.1.0, tt))));
  }
    where
      each : (v : Bool) → declared v r (node FunctionExpression m (function_fields f ps next_body)) ≡ declared v r (node FunctionExpression m (function_fields f ps first_body))
      each true = refl
      each false = refl

  settled-arrow : Settled b r (node ArrowFunctionExpression m (arrow_fields ps first_body)) (node ArrowFunctionExpression m (arrow_fields ps next_body))
  settled-arrow = record {
    kind = refl;
    own = refl;
    declares = each;
    scopes = λ s qs. let e = body-scopes-of s in omega arith;
    resolved = λ p look d. (d.0, d.1, (d.2.0, (body-resolved w.called l ds ts (parameters_of ps) fs directives may names (inner_place p r ArrowFunctionExpression m (arrow_fields ps first_body) 1).scope (inner_place p r ArrowFunctionExpression m (arrow_fields ps first_body) 1).hoist d.2.1.0, tt)));
  }
    where
      each : (v : Bool) → declared v r (node ArrowFunctionExpression m (arrow_fields ps next_body)) ≡ declared v r (node ArrowFunctionExpression m (arrow_fields ps first_body))
      each true = refl
      each false = refl

-- THE STEP

-- the body whose block becomes the `try`, at a place in a function with these parameters
module _ (w : Whole) (x : Text) (a h : Text → Option ℕ) (l : Label) (qs fs : List Bound) (ds ts us : Trees) (directives : Directives ds) (may : MayEnter qs fs ts) (names : CalledAll w.called ts) where
  abbrev o : Place
  o = record { scope = a; hoist = h; parameters = bound_by (qs ++ []) }

  body-kept : (takes : TakesContext w x (in_body o l ds ts)) → Constants (next_name w x) ts us → Named w.in_use w.free_symbol reads (body l ds (inner_block ts)) → Kept (k w x takes.fresh.free) o sealed reads (body l ds (inner_block ts)) (body l ds (protected (next_name w x) (error_of w) us before empty))
  body-kept takes c used =
      let z = k w x takes.fresh.free in
      let made_try = protected (next_name w x) (error_of w) us in
      let inside = in_body o l ds (inner_block ts) in
      second z o below sealed reads FunctionBody l (λ out. refl) (many ds) (statements (inner_block ts)) (statements (made_try before empty)) used
      (alone z inside below Top (block_of (made [] []) ts) made_try
      (wrapped w x takes.fresh.free inside Top (made [] []) ts us takes.other (constants w x takes.fresh.free ts us c) (block-look w.called l ds ts qs fs directives may names a (codes "babelHelpers") ∙ takes.helpers) takes.helpers_used used.1.1.0.0))

-- A STATIC BLOCK in a class

-- another member in the place of one
module _ (r : Role) (t u : Tree) (zs : Trees) where
  swap-declared : (v : Bool) → declared v r u ≡ declared v r t → (xs : Trees) → declared_among v r (joined_trees xs (u before zs)) ≡ declared_among v r (joined_trees xs (t before zs))
  swap-declared v e empty = λ i. e i ++ declared_among v r zs
  swap-declared v e (x before xs) = λ i. declared v r x ++ swap-declared v e xs i

  swap-scopes : (s : ℕ) (qs : Text → Bool) → scopes_with s qs r u ≡ scopes_with s qs r t → (xs : Trees) → scopes_among s qs r (joined_trees xs (u before zs)) ≡ scopes_among s qs r (joined_trees xs (t before zs))
  swap-scopes s qs e empty = λ i. e i + scopes_among s qs r zs
  swap-scopes s qs e (x before xs) = λ i. scopes_with s qs r x + swap-scopes s qs e xs i

  swap-named : (v : Text → Bool) (f : ℕ) → (Named v f r t → Named v f r u) → (xs : Trees) → NamedAll v f r (joined_trees xs (t before zs)) → NamedAll v f r (joined_trees xs (u before zs))
  swap-named v f e empty h = (e h.0, h.1)
  swap-named v f e (x before xs) h = (h.0, swap-named v f e xs h.1)

  swap-resolved : (p : Place) → (Resolved r p t → Resolved r p u) → (xs : Trees) → ResolvedAll r p (joined_trees xs (t before zs)) → ResolvedAll r p (joined_trees xs (u before zs))
  swap-resolved p e empty h = (e h.0, h.1)
  swap-resolved p e (x before xs) h = (h.0, swap-resolved p e xs h.1)

module _ (called : ℕ → Text) (l : Label) (ts : Trees) (fs : List Bound) (may : MayEnter [] fs ts) (names : CalledAll called ts) where
  abbrev first_static : Tree
  first_static = static_block l ts

  abbrev next_static : Tree
  next_static = static_block l (inner_block ts)

  static-resolved : (r : Role) (a h : Text → Option ℕ) → Resolved r (record { scope = a; hoist = h; parameters = no_name }) first_static → Resolved r (record { scope = a; hoist = h; parameters = no_name }) next_static
  static-resolved r a h d = (tt, refl, (((tt, refl, (in-block called l empty ts [] fs no_directive may names a d.2.0, tt)), tt), tt))

  static-scopes : (r : Role) (s : ℕ) → scopes_with s no_name r next_static ≡ scopes_with s no_name r first_static
  static-scopes r s = let e = body-scopes called l empty ts [] fs no_directive may names s in omega arith

  static-named : (r : Role) (u : Text → Bool) (f : ℕ) → Named u f r first_static → Named u f r next_static
  static-named r u f h = (h.0, ((((tt, tt), ((entered ts fs may.functions).named u f h.1.0, tt)), tt), tt))

  module _ (b : Place) (r : Role) (m : Label) (f g : Field) (xs zs : Trees) where
    abbrev first_members : Trees
    first_members = joined_trees xs (first_static before zs)

    abbrev next_members : Trees
    next_members = joined_trees xs (next_static before zs)

    abbrev kind_role : AstType → Role
    kind_role k = role_at r k m (class_fields f g first_members) 2

    same-names : (k : AstType) (v : Bool) → declared_among v (kind_role k) next_members ≡ declared_among v (kind_role k) first_members
    same-names k true = swap-declared (kind_role k) first_static next_static zs true refl xs
    same-names k false = swap-declared (kind_role k) first_static next_static zs false refl xs

    -- what the class binds, where its members declare these names
    abbrev class_names : AstType → List Bound → List Bound
    class_names k bs = class_frame k m (role_at r k m (class_fields f g first_members)) (class_fields f g first_members) ++ ((if is_inside k 0 then declared_by false (Binds Class) f else []) ++ (declared_by false reads g ++ (bs ++ [])))

    abbrev class_place : Place → AstType → List Bound → ℕ → Place
    class_place p k bs i = record { scope = if is_inside k i then within (class_names k bs) p.scope else p.scope; hoist = p.hoist; parameters = no_name }

    settled-class : (k : AstType) → IsClass k → Settled b r (node k m (class_fields f g first_members)) (node k m (class_fields f g next_members))
    settled-class k class_declaration = record {
      kind = refl;
      own = refl;
      declares = each;
      scopes = λ s qs.
          let a : one_if (binds s (class_names ClassDeclaration (declared_among false (kind_role ClassDeclaration) next_members)) || false) ≡ one_if (binds s (class_names ClassDeclaration (declared_among false (kind_role ClassDeclaration) first_members)) || false) = λ i. one_if (binds s (class_names ClassDeclaration (same-names ClassDeclaration false i)) || false) in
          let c = swap-scopes (kind_role ClassDeclaration) first_static next_static zs s no_name (static-scopes (kind_role ClassDeclaration) s) xs in
          omega arith;
      resolved = λ p look d.
          let e = subst (λ (bs : List Bound). ResolvedIn (role_at r ClassDeclaration m (class_fields f g first_members)) (class_place p ClassDeclaration bs) (class_fields f g first_members)) (sym (same-names ClassDeclaration false)) d.2 in
          (d.0, d.1, (e.0, (e.1.0, (swap-resolved (kind_role ClassDeclaration) first_static next_static zs (class_place p ClassDeclaration (declared_among false (kind_role ClassDeclaration) next_members) 2) (static-resolved (kind_role ClassDeclaration) (class_place p ClassDeclaration (declared_among false (kind_role ClassDeclaration) next_members) 2).scope p.hoist) xs e.1.1.0, tt))));
    }
      where
        each : (v : Bool) → declared v r (node ClassDeclaration m (class_fields f g next_members)) ≡ declared v r (node ClassDeclaration m (class_fields f g first_members))
        each true = λ i. declared_by true (Binds Class) f ++ (declared_by true reads g ++ (same-names ClassDeclaration true i ++ []))
        each false = refl
    settled-class k class_expression = record {
      kind = refl;
      own = refl;
      declares = each;
      scopes = λ s qs.
          let a : one_if (binds s (class_names ClassExpression (declared_among false (kind_role ClassExpression) next_members)) || false) ≡ one_if (binds s (class_names ClassExpression (declared_among false (kind_role ClassExpression) first_members)) || false) = λ i. one_if (binds s (class_names ClassExpression (same-names ClassExpression false i)) || false) in
          let c = swap-scopes (kind_role ClassExpression) first_static next_static zs s no_name (static-scopes (kind_role ClassExpression) s) xs in
          omega arith;
      resolved = λ p look d.
          let e = subst (λ (bs : List Bound). ResolvedIn (role_at r ClassExpression m (class_fields f g first_members)) (class_place p ClassExpression bs) (class_fields f g first_members)) (sym (same-names ClassExpression false)) d.2 in
          (d.0, d.1, (e.0, (e.1.0, (swap-resolved (kind_role ClassExpression) first_static next_static zs (class_place p ClassExpression (declared_among false (kind_role ClassExpression) next_members) 2) (static-resolved (kind_role ClassExpression) (class_place p ClassExpression (declared_among false (kind_role ClassExpression) next_members) 2).scope p.hoist) xs e.1.1.0, tt))));
    }
      where
        each : (v : Bool) → declared v r (node ClassExpression m (class_fields f g next_members)) ≡ declared v r (node ClassExpression m (class_fields f g first_members))
        each true = λ i. declared_by true (Binds Class) f ++ (declared_by true reads g ++ (same-names ClassExpression true i ++ []))
        each false = refl

-- its step
static-kept : (w : Whole) (x : Text) (a h : Text → Option ℕ) (r : Role) (l : Label) (fs : List Bound) (ts us : Trees) (may : MayEnter [] fs ts) (names : CalledAll w.called ts) (takes : TakesContext w x (in_static_block (record { scope = a; hoist = h; parameters = no_name }) r l ts)) → Constants (next_name w x) ts us → Named w.in_use w.free_symbol r (static_block l (inner_block ts)) →
    Kept (k w x takes.fresh.free) (record { scope = a; hoist = h; parameters = no_name }) sealed r (static_block l (inner_block ts)) (static_block l (protected (next_name w x) (error_of w) us before empty))
static-kept w x a h r l fs ts us may names takes c used =
    let z = k w x takes.fresh.free in
    let o : Place = record { scope = a; hoist = h; parameters = no_name } in
    let made_try = protected (next_name w x) (error_of w) us in
    let inside = in_static_block o r l (inner_block ts) in
    first z o below sealed r StaticBlock l (λ out. refl) (statements (inner_block ts)) (statements (made_try before empty)) used
    (alone z inside below Top (block_of (made [] []) ts) made_try
    (wrapped w x takes.fresh.free inside Top (made [] []) ts us takes.other (constants w x takes.fresh.free ts us c) (block-look w.called l empty ts [] fs no_directive may names a (codes "babelHelpers") ∙ takes.helpers) takes.helpers_used used.1.0.0))

member-called : (called : ℕ → Text) (xs : Trees) (t : Tree) (zs : Trees) → CalledAll called (joined_trees xs (t before zs)) → Called called t
member-called called xs t zs h = (called-joined called xs (t before zs) h).1.0

pub body-nodes : (n : Site) (s s' : Ledger) (t u : Tree) → BodyUsing n s (at_node t) s' (at_node u) → Named (whole_in s).in_use (whole_in s).free_symbol n.role t → Called (whole_in s).called t → Outcome (NodesKept n t u) s s'
body-nodes n s s' t u (of_declaration {w = w} {q = q} {y = y} {a = a} {m = m} {l = l} {f = f} {ps = ps} {ds = ds} {ts = ts} {us = us} {fs = fs} {c = x} f-name directives some may takes h) used called =
    let z = k w x takes.fresh.free in
    let names = called.1.1.1.0.1.1.0 in
    let next = body l ds (inner_block ts) in
    let made_body = body l ds (protected (next_name w x) (error_of w) us before empty) in
    let place = inner_place n.names n.role FunctionDeclaration m (function_fields f ps (body l ds ts)) 2 in
    let used_body = body-named w.called l ds ts (parameters_of ps) fs directives may names w.in_use w.free_symbol used.1.1.1.0 in
    let kept = body-kept w x place.scope place.hoist l (parameters_of ps) fs ds ts us directives may names takes h used_body in
    taking w x takes.fresh.free q y a (NodesKept n t u) sealed (record { pending = refl; this = refl; top = refl })
    (through z n.names sealed n.role t (node FunctionDeclaration m (function_fields f ps next)) u (settled-declaration w n.names n.role m l ps ds ts fs directives may names f)
    (third z n.names sealed sealed n.role FunctionDeclaration m (λ out. refl) f (many ps) (one next) (one made_body) (used.0, (used.1.0, (used.1.1.0, (used_body, tt)))) (as-one z place sealed reads next made_body kept)))
body-nodes n s s' t u (of_expression {w = w} {q = q} {y = y} {a = a} {m = m} {l = l} {f = f} {ps = ps} {ds = ds} {ts = ts} {us = us} {fs = fs} {c = x} f-name directives some may takes h) used called =
    let z = k w x takes.fresh.free in
    let names = called.1.1.1.0.1.1.0 in
    let next = body l ds (inner_block ts) in
    let made_body = body l ds (protected (next_name w x) (error_of w) us before empty) in
    let place = inner_place n.names n.role FunctionExpression m (function_fields f ps (body l ds ts)) 2 in
    let used_body = body-named w.called l ds ts (parameters_of ps) fs directives may names w.in_use w.free_symbol used.1.1.1.0 in
    let kept = body-kept w x place.scope place.hoist l (parameters_of ps) fs ds ts us directives may names takes h used_body in
    taking w x takes.fresh.free q y a (NodesKept n t u) sealed (record { pending = refl; this = refl; top = refl })
    (through z n.names sealed n.role t (node FunctionExpression m (function_fields f ps next)) u (settled-expression w n.names n.role m l ps ds ts fs directives may names f)
    (third z n.names sealed sealed n.role FunctionExpression m (λ out. refl) f (many ps) (one next) (one made_body) (used.0, (used.1.0, (used.1.1.0, (used_body, tt)))) (as-one z place sealed reads next made_body kept)))
body-nodes n s s' t u (of_arrow {w = w} {q = q} {y = y} {a = a} {m = m} {l = l} {ps = ps} {ds = ds} {ts = ts} {us = us} {fs = fs} {c = x} directives some may takes h) used called =
    let z = k w x takes.fresh.free in
    let names = called.1.1.0.1.1.0 in
    let next = body l ds (inner_block ts) in
    let made_body = body l ds (protected (next_name w x) (error_of w) us before empty) in
    let place = inner_place n.names n.role ArrowFunctionExpression m (arrow_fields ps (body l ds ts)) 1 in
    let used_body = body-named w.called l ds ts (parameters_of ps) fs directives may names w.in_use w.free_symbol used.1.1.0 in
    let kept = body-kept w x place.scope place.hoist l (parameters_of ps) fs ds ts us directives may names takes h used_body in
    taking w x takes.fresh.free q y a (NodesKept n t u) sealed (record { pending = refl; this = refl; top = refl })
    (through z n.names sealed n.role t (node ArrowFunctionExpression m (arrow_fields ps next)) u (settled-arrow w n.names n.role m l ps ds ts fs directives may names)
    (second z n.names sealed sealed n.role ArrowFunctionExpression m (λ out. refl) (many ps) (one next) (one made_body) (used.0, (used.1.0, (used_body, tt))) (as-one z place sealed reads next made_body kept)))
body-nodes n s s' t u (of_static_block {w = w} {q = q} {y = y} {a = a} {m = m} {f = f} {g = g} {fs = fs} {c = x} l xs zs ts us class_declaration some may takes h) used called =
    let z = k w x takes.fresh.free in
    let names = (member-called w.called xs (static_block l ts) zs called.1.1.1.0).1.0 in
    let next = joined_trees xs (static_block l (inner_block ts) before zs) in
    let made_block = static_block l (protected (next_name w x) (error_of w) us before empty) in
    let r = kind_role w.called l ts fs may names n.names n.role m f g xs zs ClassDeclaration in
    let in_place : List Bound → Place = λ bs. class_place w.called l ts fs may names n.names n.role m f g xs zs n.names ClassDeclaration bs 2 in
    let place = in_place (declared_among false r next) in
    let still = same-names w.called l ts fs may names n.names n.role m f g xs zs ClassDeclaration false in
    let takes' : TakesContext w x (in_static_block place r l ts) = record { fresh = takes.fresh; other = takes.other; helpers = subst (λ (bs : List Bound). (in_static_block (in_place bs) r l ts).scope (codes "babelHelpers") ≡ None) (sym still) takes.helpers; helpers_used = takes.helpers_used } in
    let used_next = swap-named r (static_block l ts) (static_block l (inner_block ts)) zs w.in_use w.free_symbol (static-named w.called l ts fs may names r w.in_use w.free_symbol) xs used.1.1.1.0 in
    let parts = named-joined w.in_use w.free_symbol r xs (static_block l (inner_block ts) before zs) used_next in
    let kept = static-kept w x place.scope place.hoist r l fs ts us may names takes' h parts.1.0 in
    taking w x takes.fresh.free q y a (NodesKept n t u) sealed (record { pending = refl; this = refl; top = refl })
    (through z n.names sealed n.role t (node ClassDeclaration m (class_fields f g next)) u (settled-class w.called l ts fs may names n.names n.role m f g xs zs ClassDeclaration class_declaration)
    (third z n.names sealed sealed n.role ClassDeclaration m (λ out. refl) f g (many next) (many (joined_trees xs (made_block before zs))) (used.0, (used.1.0, (used.1.1.0, (used_next, tt))))
    (as-many z place sealed r next (joined_trees xs (made_block before zs)) (kept-joined z place sealed r xs (static_block l (inner_block ts) before zs) (made_block before zs) parts.0 (left-trees z place sealed r (static_block l (inner_block ts)) made_block zs parts.1.1 kept (same-all (plain z) place r zs parts.1.1))))))
body-nodes n s s' t u (of_static_block {w = w} {q = q} {y = y} {a = a} {m = m} {f = f} {g = g} {fs = fs} {c = x} l xs zs ts us class_expression some may takes h) used called =
    let z = k w x takes.fresh.free in
    let names = (member-called w.called xs (static_block l ts) zs called.1.1.1.0).1.0 in
    let next = joined_trees xs (static_block l (inner_block ts) before zs) in
    let made_block = static_block l (protected (next_name w x) (error_of w) us before empty) in
    let r = kind_role w.called l ts fs may names n.names n.role m f g xs zs ClassExpression in
    let in_place : List Bound → Place = λ bs. class_place w.called l ts fs may names n.names n.role m f g xs zs n.names ClassExpression bs 2 in
    let place = in_place (declared_among false r next) in
    let still = same-names w.called l ts fs may names n.names n.role m f g xs zs ClassExpression false in
    let takes' : TakesContext w x (in_static_block place r l ts) = record { fresh = takes.fresh; other = takes.other; helpers = subst (λ (bs : List Bound). (in_static_block (in_place bs) r l ts).scope (codes "babelHelpers") ≡ None) (sym still) takes.helpers; helpers_used = takes.helpers_used } in
    let used_next = swap-named r (static_block l ts) (static_block l (inner_block ts)) zs w.in_use w.free_symbol (static-named w.called l ts fs may names r w.in_use w.free_symbol) xs used.1.1.1.0 in
    let parts = named-joined w.in_use w.free_symbol r xs (static_block l (inner_block ts) before zs) used_next in
    let kept = static-kept w x place.scope place.hoist r l fs ts us may names takes' h parts.1.0 in
    taking w x takes.fresh.free q y a (NodesKept n t u) sealed (record { pending = refl; this = refl; top = refl })
    (through z n.names sealed n.role t (node ClassExpression m (class_fields f g next)) u (settled-class w.called l ts fs may names n.names n.role m f g xs zs ClassExpression class_expression)
    (third z n.names sealed sealed n.role ClassExpression m (λ out. refl) f g (many next) (many (joined_trees xs (made_block before zs))) (used.0, (used.1.0, (used.1.1.0, (used_next, tt))))
    (as-many z place sealed r next (joined_trees xs (made_block before zs)) (kept-joined z place sealed r xs (static_block l (inner_block ts) before zs) (made_block before zs) parts.0 (left-trees z place sealed r (static_block l (inner_block ts)) made_block zs parts.1.1 kept (same-all (plain z) place r zs parts.1.1))))))

pub body-only : (n : Site) (s s' : Ledger) (x y : Spot) → BodyUsing n s x s' y → AtNodes x y
body-only n s s' x y (of_declaration a b c d e f) = tt
body-only n s s' x y (of_expression a b c d e f) = tt
body-only n s s' x y (of_arrow a b c d e) = tt
body-only n s s' x y (of_static_block l xs zs ts us a b c d e) = tt

pub body-lawful : Lawful BodyUsing
body-lawful = called-only {R = BodyUsing} body-only body-nodes
