-- `using` at the top of a function's body or of a static block keeps the rules of declared names: what the body declares lexically, and its
-- functions, go to the made block.
use Rattle.std.proofs.Common.{◌≡◌, ℕ, refl, sym, ap, subst, ◌∙◌, List, [], ◌∷◌, ◌++◌, append-nil, filter, map}
use Rattle.std.specs.Prelude.{Bool, true, false, not}
use Rattle.std.specs.List.{list_all}
use Rattle.std.proofs.lemmas.Bool.{and_parts}
use Rattle.es_tree.specs.Ancestors.{Ancestor, ancestor, is_module, scopes, stands_in}
use Rattle.es_tree.specs.DeclaredNames.{Name, bound_names, declaration_names, exports_of, function_names, is_at_top, name, names_in_scope, private_names}
use Rattle.es_tree.specs.HasForm.{has_form, same_type, trees_form}
use Rattle.es_tree.specs.Names.{first_text}
use Rattle.es_tree.specs.Tree.{Tree, node, Label, Fields, done, ◌then◌, Field, one, many, statements, Trees, empty, ◌before◌}
use Rattle.es_tree.specs.Words.{Text}
use Rattle.es_tree.specs.declared.ast_type.AstType.{AstType}
use Rattle.es_tree.specs.declared.ast_type.AstType.TheVariants.{ArrowFunctionExpression, BlockStatement, CatchClause, ClassDeclaration, ClassExpression, FunctionBody, FunctionDeclaration, FunctionExpression, Identifier, StaticBlock}
use Rattle.es_tree.specs.declared.place.Namespace.TheVariants.{Scope}
use Rattle.es_tree.specs.declared.table.Sort.{Sort}
use Rattle.es_tree.specs.declared.table.Sort.TheVariants.{ArrowFunctionBody as s-ArrowFunctionBody, ClassElement as s-ClassElement, FunctionBody as s-FunctionBody, Statement as s-Statement}
use Rattle.es_tree.proofs.NodeForm.{node_form}
use Rattle.es_semantic.specs.RolesOf.{reads}
use Rattle.es_semantic.proofs.FormEdges.{edges-tree}
use Rattle.es_resolution.specs.Declarations.{Bound, declared, declared_among}
use Rattle.es_resolution.specs.Resolved.{bound_by}
use Rattle.es_steps.specs.Nodes.{joined_trees, made}
use Rattle.es_steps.specs.Open.{is_import}
use Rattle.es_steps.specs.ParameterPatterns.{body_fields}
use Rattle.es_steps.specs.Patterns.{no_name_of}
use Rattle.es_steps.specs.Rules.{next_name}
use Rattle.es_steps.specs.Steps.{Ledger, Site, Whole}
use Rattle.es_steps.specs.Steps.Spot.{at_node}
use Rattle.es_steps.specs.UsingBlocks.{Constants, error_name, error_of, protected, with_context}
use Rattle.es_steps.specs.UsingBodies.{BodyUsing, IsClass, MayEnter, TopFunctions, arrow_fields, body, bound_as, class_fields, function_fields, is_as_in_block, static_block}
use Rattle.es_steps.specs.UsingBodies.BodyUsing.{of_declaration, of_expression, of_arrow, of_static_block}
use Rattle.es_steps.specs.UsingBodies.IsClass.{class_declaration, class_expression}
use Rattle.es_steps.specs.UsingBodies.TopFunctions.{no_function, function, other}
use Rattle.es_steps.proofs.BodyWraps.{body-only}
use Rattle.es_steps.proofs.FormLists.{first-formed}
use Rattle.es_steps.proofs.FormParts.{and-left, and-right}
use Rattle.es_steps.proofs.TopFunctions.{bound-first, bound-later}
use Rattle.es_valid_names.proofs.Claims.{Around, Clear, ClearAll, ClearBy, Distinct, above, claims, claims_all, claims_by, claims_in, elsewhere, is_owned, push}
use Rattle.es_valid_names.proofs.ClearPending.{IsFresh}
use Rattle.es_valid_names.proofs.MoreAround.{Allows, clear-more-all, clear-more-by}
use Rattle.es_valid_names.proofs.Mute.{sealed-field}
use Rattle.es_valid_using.proofs.UsingBolder.{Bolder, bolder-apart, is_other, scope_name}
use Rattle.es_valid_using.proofs.UsingBolder.Bolder.{no_list as no_lists, same_list as same_lists, bolder}
use Rattle.es_valid_using.proofs.UsingNamesBlocks.{constants-clear, context-names, head-gone, made-apart, made_here, protected-clear}
use Rattle.es_valid_using.proofs.UsingNamesLists.{Moved, first-apart, last-apart, moved-apart, moved-both, moved-self, no_list, same_list}
use Rattle.es_valid_using.proofs.UsingNamesMade.{constants-moved, context_node, in_made, near-blocks, protected-moved, statement-member, unkeyed}
use Rattle.es_valid_using.proofs.UsingNamesPlaces.{Less, Near, NearBut, as_many, claims-beyond, gone, less-self}
use Rattle.es_valid_using.proofs.UsingNamesReplaced.{NodeWent, joined-went}
use Rattle.es_valid_using.proofs.UsingNamesReplaced.Replaced.{here, below}
use Rattle.es_valid_using.proofs.UsingNamesReplaced.ReplacedIn.{first, later}
use Rattle.es_valid_using.proofs.UsingNamesReplaced.ReplacedBy.{in_many}
use Rattle.es_valid_using.proofs.UsingNamesReplaced.ReplacedAll.{head}
use Rattle.es_valid_using.proofs.UsingNamesSteps.{MovesLawful, MovesNames, NodeMoved, may_go, replaced-moved}
use Rattle.es_valid_using.proofs.UsingOutsideRules.{context-beside}
use Rattle.es_valid_using.proofs.UsingVars.{AllOk, EachFine, Roled, inside-table, not-true, ok-left, ok-right, sealed-function, tree-fine, inside as inside_test}

-- THE PLACE of the statements

record IsTop (p : List Ancestor) : Type 0 where
  bound : (x : Text) → bound_names p x ≡ []
  declaration : (x : Text) → declaration_names p x ≡ []
  private : (x : Text) → private_names p x ≡ []
  catch : stands_in CatchClause 1 p ≡ false
  exports : (x : Text) → exports_of p x ≡ []
  top : is_at_top p ≡ true

abbrev in_function : Label → List Ancestor → List Ancestor
in_function l vs = ancestor FunctionBody l done 1 0 ∷ vs

abbrev in_static : Label → ℕ → List Ancestor → List Ancestor
in_static l n up = ancestor StaticBlock l done 0 n ∷ up

top-function : (l : Label) (vs : List Ancestor) → IsTop (in_function l vs)
top-function l vs = record { bound = λ x. refl; declaration = λ x. refl; private = λ x. unkeyed (ancestor FunctionBody l done 1 0) vs x refl; catch = refl; exports = λ x. refl; top = refl }

top-static : (l : Label) (n : ℕ) (up : List Ancestor) → IsTop (in_static l n up)
top-static l n up = record { bound = λ x. refl; declaration = λ x. refl; private = λ x. unkeyed (ancestor StaticBlock l done 0 n) up x refl; catch = refl; exports = λ x. refl; top = refl }

-- no name that is looked for is the scope's
abbrev Lost : Bool → List Ancestor → Type 0
Lost go p = (x : Text) (b : Bool) → Less go (names_in_scope (scopes p) x b) []

module _ (go : Bool) (p : List Ancestor) (t : IsTop p) (lost : Lost go p) where
  inner : {ns : List Name} {x : Text} {b : Bool} → Less go ns [] → Less go ns (name Scope 0 x b ∷ [])
  inner (as_many e) = as_many e
  inner (gone e d h) = gone e d h

  near-made : Near go p (in_made p)
  near-made = record {
    functions = λ x. inner (lost x (not (is_at_top p)));
    others = record {
      vars = λ x. refl;
      heads = λ x b. inner (lost x b);
      in_module = refl;
      catch = sym t.catch;
      bound = λ x. as_many (ap (λ ns. filter is_owned ns) (sym (t.bound x)));
      declaration = λ x. as_many (ap (λ ns. filter is_owned ns) (sym (t.declaration x)));
      private = λ x. ap (λ ns. filter is_owned ns) (sym (t.private x));
    };
  }

  list-moved : {used used' : Text → Bool} (c u : Bound) → IsFresh used used' c → (ts us : Trees) → Constants c ts us → trees_form s-Statement s-Statement ts ≡ true → Moved used used' go (claims_all is_owned p ts) (claims_all is_owned p (protected c u us before empty))
  list-moved {used} {used'} c u fresh ts us h f = subst (λ (gs : List (List Name)). Moved used used' go (claims_all is_owned p ts) gs) (sym (append-nil (claims is_owned p (protected c u us)))) (protected-moved used used' go p c u us (claims_all is_owned p ts) fresh (constants-moved c p (in_made p) near-made ts us h f))

-- INTO THE BLOCK, from a scope that is looked at

near-self : Near false made_here made_here
near-self = near-blocks false (made [] []) (made [] []) 1 1 [] [] (λ y. refl) (λ y b. less-self (name Scope 1 y b ∷ [])) refl

-- a function's name
function-claims : (p : List Ancestor) (b : Bool) (l m : Label) (ps : Trees) (t : Tree) → function_names p (first_text m.texts) ≡ scope_name (first_text m.texts) b ∷ [] → exports_of p (first_text m.texts) ≡ [] → claims is_owned p (node FunctionDeclaration l (one (node Identifier m done) then many ps then one t then done)) ≡ (scope_name (first_text m.texts) b ∷ []) ∷ []
function-claims p b l m ps t e d =
    let all : Fields = one (node Identifier m done) then many ps then one t then done in
    let parameters = sealed-field (above FunctionDeclaration l all 1 0 ∷ p) (many ps) (sealed-function l all 0 p) in
    let inside = sealed-field (above FunctionDeclaration l all 2 0 ∷ p) (one t) (sealed-function l all 1 p) in
    (λ i. claims is_owned (above FunctionDeclaration l all 0 0 ∷ p) (node Identifier m done) ++ (parameters i ++ (inside i ++ []))) ∙ append-nil (claims is_owned (above FunctionDeclaration l all 0 0 ∷ p) (node Identifier m done)) ∙ (λ i. push (filter is_owned ((e i ++ d i) ++ [])) [])

no-declaration : (k : AstType) → is_as_in_block k ≡ true → same_type k FunctionDeclaration ≡ false
no-declaration FunctionDeclaration e = absurd (cc e)
no-declaration _ e = refl

bolder-more : (all fs : List Bound) (gs : List (List Name)) → EachFine (is_other all) gs → {hs ks : List (List Name)} → Bolder all fs hs ks → Bolder all fs (gs ++ hs) (gs ++ ks)
bolder-more all fs [] e h = h
bolder-more all fs (g ∷ gs) e h = same_lists g e.0 (bolder-more all fs gs e.1 h)

module _ (p : List Ancestor) (t : IsTop p) (scoped : scopes p ≡ 1 ∷ []) (outer : is_module p ≡ false) (all : List Bound) where
  near-here : NearBut false p made_here
  near-here = record {
    vars = λ x i. filter is_owned (map (λ n. name Scope n x false) (sym scoped i));
    heads = λ x b. as_many (λ i. filter is_owned (names_in_scope (sym scoped i) x b));
    in_module = sym outer;
    catch = sym t.catch;
    bound = λ x. as_many (ap (λ ns. filter is_owned ns) (sym (t.bound x)));
    declaration = λ x. as_many (ap (λ ns. filter is_owned ns) (sym (t.declaration x)));
    private = λ x. ap (λ ns. filter is_owned ns) (sym (t.private x));
  }

  roled-here : Roled (is_other all) made_here reads
  roled-here = record { bound = λ x m. tt; declaration = λ x m. tt; functions = λ x m. (λ s e o. absurd (cc e), tt) }

  -- first to the block as by `var`, and then as its functions
  record Entering (used : Text → Bool) (ts : Trees) (fs : List Bound) : Type 0 where
    between : List (List Name)
    moved : Moved used used false (claims_all is_owned p ts) between
    becomes : Bolder all fs between (claims_all is_owned made_here ts)

  entering : (used : Text → Bool) (ts : Trees) (fs : List Bound) → TopFunctions ts fs → trees_form s-Statement s-Statement ts ≡ true → ((y : Text) → bound_by fs y ≡ true → bound_by all y ≡ true) → AllOk (is_other all) (declared_among true reads ts) → Entering used ts fs
  entering used ts fs no_function f among ok = record { between = []; moved = no_list; becomes = no_lists }
  entering used ts fs (function {l = l} {m = m} {ps = ps} {ts = ts'} {b = b} {fs = fs'} rest) f among ok =
      let x = first_text m.texts in
      let n = node FunctionDeclaration l (one (node Identifier m done) then many ps then one b then done) in
      let parts = first-formed s-Statement n ts' f in
      let r = entering used ts' fs' rest parts.1 (λ y e. among y (bound-later (bound_as m) fs' y e)) (ok-right (is_other all) (declared true reads n) (declared_among true reads ts') ok) in
      let was = function-claims p false l m ps b (λ i. names_in_scope (scoped i) x (not (t.top i))) (t.exports x) in
      let is = function-claims made_here true l m ps b refl refl in
      record {
        between = (scope_name x false ∷ []) ∷ r.between;
        moved = subst (λ (gs : List (List Name)). Moved used used false (gs ++ claims_all is_owned p ts') ((scope_name x false ∷ []) ∷ r.between)) (sym was) (same_list (scope_name x false ∷ []) r.moved);
        becomes = subst (λ (gs : List (List Name)). Bolder all fs ((scope_name x false ∷ []) ∷ r.between) (gs ++ claims_all is_owned made_here ts')) (sym is) (bolder (bound_as m) (among x (bound-first (bound_as m) fs')) r.becomes);
      }
  entering used ts fs (other {k = k} {l = l} {gs = gs} {ts = ts'} as_in rest) f among ok =
      let n = node k l gs in
      let parts = first-formed s-Statement n ts' f in
      let r = entering used ts' fs rest parts.1 among (ok-right (is_other all) (declared true reads n) (declared_among true reads ts') ok) in
      let edges = edges-tree inside_test inside-table BlockStatement 0 false s-Statement n refl parts.0 in
      let fine = tree-fine (is_other all) made_here reads n roled-here (not-true _ edges.0) edges.1 (ok-left (is_other all) (declared true reads n) (declared_among true reads ts') ok) in
      record {
        between = claims is_owned made_here n ++ r.between;
        moved = moved-both (claims-beyond p made_here near-here n (no-declaration k as_in) (λ d. absurd (statement-member n parts.0 d))) r.moved;
        becomes = bolder-more all fs (claims is_owned made_here n) fine r.becomes;
      }

pub all-ok : (fs bs : List Bound) → list_all (no_name_of fs) bs ≡ true → AllOk (is_other fs) bs
all-ok fs [] h = tt
all-ok fs (b ∷ bs) h = let parts = and_parts (no_name_of fs b) (list_all (no_name_of fs) bs) h in (parts.0, all-ok fs bs parts.1)

module _ (w : Whole) (x : Text) (free : w.in_use x ≡ false) {qs fs : List Bound} (ts us : Trees) (may : MayEnter qs fs ts) (h : Constants (next_name w x) ts us) (f : trees_form s-Statement s-Statement ts ≡ true) where
  abbrev after : Whole
  after = with_context x w

  abbrev context : Bound
  context = next_name w x

  abbrev lowered : Trees
  lowered = protected context (error_of w) us before empty

  list-of : (go : Bool) (p : List Ancestor) → IsTop p → Lost go p → Moved w.in_use after.in_use go (claims_all is_owned p ts) (claims_all is_owned p lowered)
  list-of go p t lost = list-moved go p t lost context (error_of w) (context-names w x free).context ts us h f

  -- what is in the made block, where the names of the scope around are apart
  made-clear : (p : List Ancestor) → IsTop p → scopes p ≡ 1 ∷ [] → is_module p ≡ false → (c d : Around) → c.used ≡ w.in_use → d.used ≡ after.in_use → Allows c d → Distinct w.in_use [] (claims_all is_owned p ts) → ClearAll c elsewhere ts → Clear d elsewhere (protected context (error_of w) us)
  made-clear p t scoped outer c d e g allows apart k =
      let names = context-names w x free in
      let r = entering p t scoped outer fs w.in_use ts fs may.functions f (λ y q. q) (all-ok fs (declared_among true reads ts) may.vars) in
      let inside = bolder-apart fs w.in_use fs may.once r.becomes (moved-apart (λ y q. q) r.moved apart) in
      let own = made-apart w x free us (claims_all is_owned made_here ts) false (constants-moved context made_here made_here near-self ts us h f) inside in
      protected-clear d elsewhere context (error_of w) us (subst (λ (v : Text → Bool). Distinct v [] (claims is_owned made_here (context_node context) ++ claims_all is_owned made_here us)) (sym g) own) (ap (λ v. v error_name) g ∙ names.error) (clear-more-all c d allows elsewhere us (constants-clear c context ts us h k))

  -- A STATIC BLOCK
  static-moved : (b : Bool) (l : Label) → NodeMoved w.in_use after.in_use b (static_block l ts) (static_block l lowered)
  static-moved b l = record {
    moved = λ up e. moved-both (list-of (may_go up) (in_static l 0 up) (top-static l 0 up) (λ y v. as_many refl)) (moved-self []);
    clear = λ c d e g allows st stand m inside k.
        let p = in_static l 1 [] in
        let old = subst (λ (v : Text → Bool). Distinct v [] (claims_all is_owned p ts ++ [])) e k.0 in
        let new = moved-apart (context-names w x free).more (moved-both (list-of true p (top-static l 1 []) (λ y v. head-gone (1 ∷ []) y v)) (moved-self [])) old in
        (subst (λ (v : Text → Bool). Distinct v [] (claims_all is_owned p lowered ++ [])) (sym g) new, refl, ((made-clear p (top-static l 1 []) refl refl c d e g allows (first-apart w.in_use (claims_all is_owned p ts) [] old) k.2.0, tt), tt));
    name = refl;
    key = λ e. absurd (cc e);
    inside = refl;
  }

  -- A BODY

  module _ (l : Label) (ds : Trees) where
    body-moved : (go : Bool) (vs : List Ancestor) → Lost go vs → Moved w.in_use after.in_use go (claims is_owned vs (body l ds ts)) (claims is_owned vs (body l ds lowered))
    body-moved go vs lost = moved-both (moved-self (claims_all is_owned (ancestor FunctionBody l done 0 0 ∷ vs) ds)) (moved-both (list-of go (in_function l vs) (top-function l vs) lost) (moved-self []))

    body-clear : (vs : List Ancestor) → scopes vs ≡ 1 ∷ [] → is_module vs ≡ false → (c d : Around) → c.used ≡ w.in_use → d.used ≡ after.in_use → Allows c d → Distinct w.in_use [] (claims is_owned vs (body l ds ts)) → Clear c elsewhere (body l ds ts) → Clear d elsewhere (body l ds lowered)
    body-clear vs scoped outer c d e g allows apart k =
        let p = in_function l vs in
        let own = first-apart w.in_use (claims_all is_owned p ts) [] (last-apart w.in_use (claims_all is_owned (ancestor FunctionBody l done 0 0 ∷ vs) ds) (claims_all is_owned p ts ++ []) apart) in
        (tt, refl, (clear-more-all c d allows elsewhere ds k.2.0, ((made-clear p (top-function l vs) scoped outer c d e g allows own k.2.1.0, tt), tt)))

    -- the fields of a function and of an arrow
    module _ (k : AstType) (m : Label) (ps : Trees) where
      abbrev arrow_lists : ℕ → List Ancestor → Trees → List (List Name)
      arrow_lists n up vs = claims_in is_owned up k m (arrow_fields ps (body l ds vs)) n 0 (arrow_fields ps (body l ds vs))

      arrow-lists : (go : Bool) (n : ℕ) (up : List Ancestor) → Lost go (ancestor k m done 1 n ∷ up) → Moved w.in_use after.in_use go (arrow_lists n up ts) (arrow_lists n up lowered)
      arrow-lists go n up lost = moved-both (moved-self (claims_all is_owned (ancestor k m done 0 n ∷ up) ps)) (moved-both (body-moved go (ancestor k m done 1 n ∷ up) lost) no_list)

      module _ (o : Field) where
        abbrev function_lists : ℕ → List Ancestor → Trees → List (List Name)
        function_lists n up vs = claims_in is_owned up k m (function_fields o ps (body l ds vs)) n 0 (function_fields o ps (body l ds vs))

        function-lists : (go : Bool) (n : ℕ) (up : List Ancestor) → Lost go (ancestor k m done 2 n ∷ up) → Moved w.in_use after.in_use go (function_lists n up ts) (function_lists n up lowered)
        function-lists go n up lost = moved-both (moved-self (claims_by is_owned (above k m (function_fields o ps (body l ds ts)) 0 n ∷ up) o)) (moved-both (moved-self (claims_all is_owned (ancestor k m done 1 n ∷ up) ps)) (moved-both (body-moved go (ancestor k m done 2 n ∷ up) lost) no_list))

        -- of a function that is looked at
        record FunctionClear (d : Around) : Type 0 where
          own : Distinct d.used [] (function_lists 1 [] lowered)
          fields : ClearBy d elsewhere o × (ClearAll d elsewhere ps × (Clear d elsewhere (body l ds lowered) × Unit {0}))

        function-clear : scopes (ancestor k m done 2 1 ∷ []) ≡ 1 ∷ [] → is_module (ancestor k m done 2 1 ∷ []) ≡ false → (c d : Around) → c.used ≡ w.in_use → d.used ≡ after.in_use → Allows c d → Distinct c.used [] (function_lists 1 [] ts) → ClearBy c elsewhere o → ClearAll c elsewhere ps → Clear c elsewhere (body l ds ts) → FunctionClear d
        function-clear scoped outer c d e g allows apart named params last =
            let vs = ancestor k m done 2 1 ∷ [] in
            let old = subst (λ (v : Text → Bool). Distinct v [] (function_lists 1 [] ts)) e apart in
            let new = moved-apart (context-names w x free).more (function-lists true 1 [] (λ y v. subst (λ (ns : List ℕ). Less true (names_in_scope ns y v) []) (sym scoped) (head-gone (1 ∷ []) y v))) old in
            let inside = claims is_owned vs (body l ds ts) in
            let parameters = claims_all is_owned (ancestor k m done 1 1 ∷ []) ps in
            let own = first-apart w.in_use inside [] (last-apart w.in_use parameters (inside ++ []) (last-apart w.in_use (claims_by is_owned (above k m (function_fields o ps (body l ds ts)) 0 1 ∷ []) o) (parameters ++ (inside ++ [])) old)) in
            record {
              own = subst (λ (v : Text → Bool). Distinct v [] (function_lists 1 [] lowered)) (sym g) new;
              fields = (clear-more-by c d allows elsewhere o named, (clear-more-all c d allows elsewhere ps params, (body-clear vs scoped outer c d e g allows own last, tt)));
            }

    -- FUNCTIONS AND ARROWS around it

    declaration-moved : (b : Bool) (m : Label) (ps : Trees) (o : Field) → NodeMoved w.in_use after.in_use b (node FunctionDeclaration m (function_fields o ps (body l ds ts))) (node FunctionDeclaration m (function_fields o ps (body l ds lowered)))
    declaration-moved b m ps o = record {
      moved = λ up e. function-lists FunctionDeclaration m ps o (may_go up) 0 up (λ y v. as_many refl);
      clear = λ c d e g allows st stand z inside k. (let r = function-clear FunctionDeclaration m ps o refl refl c d e g allows k.0 k.2.0 k.2.1.0 k.2.1.1.0 in (r.own, k.1, r.fields));
      name = refl;
      key = λ e. absurd (cc e);
      inside = refl;
    }

    expression-moved : (b : Bool) (m : Label) (ps : Trees) (o : Field) → NodeMoved w.in_use after.in_use b (node FunctionExpression m (function_fields o ps (body l ds ts))) (node FunctionExpression m (function_fields o ps (body l ds lowered)))
    expression-moved b m ps o = record {
      moved = λ up e. function-lists FunctionExpression m ps o (may_go up) 0 up (λ y v. as_many refl);
      clear = λ c d e g allows st stand z inside k. (let r = function-clear FunctionExpression m ps o refl refl c d e g allows k.0 k.2.0 k.2.1.0 k.2.1.1.0 in (r.own, refl, r.fields));
      name = refl;
      key = λ e. absurd (cc e);
      inside = refl;
    }

    arrow-moved : (b : Bool) (m : Label) (ps : Trees) → NodeMoved w.in_use after.in_use b (node ArrowFunctionExpression m (arrow_fields ps (body l ds ts))) (node ArrowFunctionExpression m (arrow_fields ps (body l ds lowered)))
    arrow-moved b m ps = record {
      moved = λ up e. arrow-lists ArrowFunctionExpression m ps (may_go up) 0 up (λ y v. as_many refl);
      clear = λ c d e g allows st stand z within k.
          let vs = ancestor ArrowFunctionExpression m done 1 1 ∷ [] in
          let old = subst (λ (v : Text → Bool). Distinct v [] (arrow_lists ArrowFunctionExpression m ps 1 [] ts)) e k.0 in
          let new = moved-apart (context-names w x free).more (arrow-lists ArrowFunctionExpression m ps true 1 [] (λ y v. head-gone (1 ∷ []) y v)) old in
          let inside = claims is_owned vs (body l ds ts) in
          let own = first-apart w.in_use inside [] (last-apart w.in_use (claims_all is_owned (ancestor ArrowFunctionExpression m done 0 1 ∷ []) ps) (inside ++ []) old) in
          (subst (λ (v : Text → Bool). Distinct v [] (arrow_lists ArrowFunctionExpression m ps 1 [] lowered)) (sym g) new, refl, (clear-more-all c d allows elsewhere ps k.2.0, (body-clear vs refl refl c d e g allows own k.2.1.0, tt)));
      name = refl;
      key = λ e. absurd (cc e);
      inside = refl;
    }

  -- A CLASS around a static block
  class-moved : (k : AstType) → IsClass k → (b : Bool) (m : Label) (f g : Field) (xs zs : Trees) (l : Label) → NodeMoved w.in_use after.in_use b (node k m (class_fields f g (joined_trees xs (static_block l ts before zs)))) (node k m (class_fields f g (joined_trees xs (static_block l lowered before zs))))
  class-moved k class_declaration b m f g xs zs l = replaced-moved w.in_use after.in_use (context-names w x free).more (below (later (later (first (λ d. absurd d) (in_many (joined-went (NodeMoved w.in_use after.in_use) false xs (static_block l ts before zs) (static_block l lowered before zs) (head (here (static-moved false l))))))))) refl
  class-moved k class_expression b m f g xs zs l = replaced-moved w.in_use after.in_use (context-names w x free).more (below (later (later (first (λ d. absurd d) (in_many (joined-went (NodeMoved w.in_use after.in_use) false xs (static_block l ts before zs) (static_block l lowered before zs) (head (here (static-moved false l))))))))) refl

-- FORM

body-form : (s : Sort) (l : Label) (ds ts : Trees) → has_form s (body l ds ts) ≡ true → trees_form s-Statement s-Statement ts ≡ true
body-form s l ds ts f = and-left _ true (and-right _ _ (node_form s FunctionBody l (body_fields ds ts) f).children)

declaration-form : (a : Sort) (m : Label) (o : Field) (ps : Trees) (l : Label) (ds ts : Trees) → has_form a (node FunctionDeclaration m (function_fields o ps (body l ds ts))) ≡ true → trees_form s-Statement s-Statement ts ≡ true
declaration-form a m o ps l ds ts f = body-form s-FunctionBody l ds ts (and-left _ true (and-right _ _ (and-right _ _ (node_form a FunctionDeclaration m (function_fields o ps (body l ds ts)) f).children)))

expression-form : (a : Sort) (m : Label) (o : Field) (ps : Trees) (l : Label) (ds ts : Trees) → has_form a (node FunctionExpression m (function_fields o ps (body l ds ts))) ≡ true → trees_form s-Statement s-Statement ts ≡ true
expression-form a m o ps l ds ts f = body-form s-FunctionBody l ds ts (and-left _ true (and-right _ _ (and-right _ _ (node_form a FunctionExpression m (function_fields o ps (body l ds ts)) f).children)))

arrow-form : (a : Sort) (m : Label) (ps : Trees) (l : Label) (ds ts : Trees) → has_form a (node ArrowFunctionExpression m (arrow_fields ps (body l ds ts))) ≡ true → trees_form s-Statement s-Statement ts ≡ true
arrow-form a m ps l ds ts f = body-form s-ArrowFunctionBody l ds ts (and-left _ true (and-right _ _ (node_form a ArrowFunctionExpression m (arrow_fields ps (body l ds ts)) f).children))

static-form : (s : Sort) (l : Label) (ts : Trees) → has_form s (static_block l ts) ≡ true → trees_form s-Statement s-Statement ts ≡ true
static-form s l ts f = and-left _ true (node_form s StaticBlock l (statements ts then done) f).children

member-form : (s : Sort) (xs : Trees) (t : Tree) (zs : Trees) → trees_form s s (joined_trees xs (t before zs)) ≡ true → has_form s t ≡ true
member-form s empty t zs f = (first-formed s t zs f).0
member-form s (x before xs) t zs f = member-form s xs t zs (first-formed s x (joined_trees xs (t before zs)) f).1

class-form : (a : Sort) (k : AstType) → IsClass k → (m : Label) (f g : Field) (xs zs : Trees) (l : Label) (ts : Trees) → has_form a (node k m (class_fields f g (joined_trees xs (static_block l ts before zs)))) ≡ true → trees_form s-Statement s-Statement ts ≡ true
class-form a k class_declaration m f g xs zs l ts e = static-form s-ClassElement l ts (member-form s-ClassElement xs (static_block l ts) zs (and-left _ true (and-right _ _ (and-right _ _ (node_form a ClassDeclaration m (class_fields f g (joined_trees xs (static_block l ts before zs))) e).children))))
class-form a k class_expression m f g xs zs l ts e = static-form s-ClassElement l ts (member-form s-ClassElement xs (static_block l ts) zs (and-left _ true (and-right _ _ (and-right _ _ (node_form a ClassExpression m (class_fields f g (joined_trees xs (static_block l ts before zs))) e).children))))

-- THE RULE

class-imports : (k : AstType) → IsClass k → (m : Label) (fs gs : Fields) → is_import (node k m gs) ≡ is_import (node k m fs)
class-imports k class_declaration m fs gs = refl
class-imports k class_expression m fs gs = refl

pub body-moves : MovesLawful BodyUsing
body-moves = record { only = body-only; at_nodes = nodes }
  where
    nodes : (n : Site) (s s' : Ledger) (t u : Tree) (a : Sort) → BodyUsing n s (at_node t) s' (at_node u) → has_form a t ≡ true → NodeWent MovesNames n s s' t u
    nodes n s s' t u a (of_declaration {w = w} {m = m} {l = l} {f = o} {ps = ps} {ds = ds} {ts = ts} {us = us} {c = x} _ directives some may takes h) f = record {
      node_went = declaration-moved w x takes.fresh.free ts us may h (declaration-form a m o ps l ds ts f) l ds (stands_in CatchClause 1 n.above) m ps o;
      beside = context-beside w x s s' refl refl refl refl refl;
      imports = refl;
    }
    nodes n s s' t u a (of_expression {w = w} {m = m} {l = l} {f = o} {ps = ps} {ds = ds} {ts = ts} {us = us} {c = x} _ directives some may takes h) f = record {
      node_went = expression-moved w x takes.fresh.free ts us may h (expression-form a m o ps l ds ts f) l ds (stands_in CatchClause 1 n.above) m ps o;
      beside = context-beside w x s s' refl refl refl refl refl;
      imports = refl;
    }
    nodes n s s' t u a (of_arrow {w = w} {m = m} {l = l} {ps = ps} {ds = ds} {ts = ts} {us = us} {c = x} directives some may takes h) f = record {
      node_went = arrow-moved w x takes.fresh.free ts us may h (arrow-form a m ps l ds ts f) l ds (stands_in CatchClause 1 n.above) m ps;
      beside = context-beside w x s s' refl refl refl refl refl;
      imports = refl;
    }
    nodes n s s' t u a (of_static_block {w = w} {k = k} {m = m} {f = o} {g = g} {c = x} l xs zs ts us class some may takes h) f = record {
      node_went = class-moved w x takes.fresh.free ts us may h (class-form a k class m o g xs zs l ts f) k class (stands_in CatchClause 1 n.above) m o g xs zs l;
      beside = context-beside w x s s' refl refl refl refl refl;
      imports = class-imports k class m (class_fields o g (joined_trees xs (static_block l ts before zs))) (class_fields o g (joined_trees xs (static_block l (protected (next_name w x) (error_of w) us before empty) before zs)));
    }
