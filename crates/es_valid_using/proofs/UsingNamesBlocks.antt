-- `using` in a block keeps the rules of declared names.
use Rattle.std.proofs.Common.{◌≡◌, ◌==◌, ℕ, refl, sym, ap, subst, ◌∙◌, List, [], ◌∷◌, ◌++◌, append-nil, filter, map}
use Rattle.std.specs.Prelude.{Bool, true, false, not, ◌&&◌, ◌||◌, codes, if◌then◌else◌, bytes_eq, Some, None}
use Rattle.std.proofs.lemmas.Bool.{and_parts}
use Rattle.es_tree.specs.Ancestors.{Ancestor, ancestor, is_boundary, makes_scope, scopes, stands_in}
use Rattle.es_tree.specs.DeclaredNames.{Name, name, names_in_scope}
use Rattle.es_tree.specs.HasForm.{has_form, same_type, trees_form}
use Rattle.es_tree.specs.Tree.{Tree, node, Label, done, ◌then◌, many, statements, Trees, empty, ◌before◌}
use Rattle.es_tree.specs.Words.{Text}
use Rattle.es_tree.specs.declared.ast_type.AstType.TheVariants.{BlockStatement, CatchClause, Program, TryStatement, VariableDeclaration}
use Rattle.es_tree.specs.declared.place.Namespace.TheVariants.{Scope}
use Rattle.es_tree.specs.declared.table.Sort.{Sort}
use Rattle.es_tree.specs.declared.table.Sort.TheVariants.{Statement as s-Statement}
use Rattle.es_tree.proofs.NodeForm.{node_form}
use Rattle.es_semantic.proofs.FormEdges.{same-kind}
use Rattle.es_resolution.specs.Declarations.{Bound}
use Rattle.es_resolution.proofs.Basics.{bytes_eq-self}
use Rattle.es_steps.specs.Nodes.{assign_node, call_node, identifier, made, member_node, statement_node}
use Rattle.es_steps.specs.Rules.{next_name}
use Rattle.es_steps.specs.Steps.{Ledger, Site, Whole}
use Rattle.es_steps.specs.Steps.Spot.{at_node}
use Rattle.es_steps.specs.UsingBlocks.{BlockUsing, Constants, UsedAll, block_of, error_name, error_of, protected, with_context}
use Rattle.es_steps.specs.UsingBlocks.BlockUsing.{of_block, of_part}
use Rattle.es_steps.specs.UsingBlocks.Constants.{ended, stays, using}
use Rattle.es_steps.specs.UsingBlocks.UsedAll.{no_more, uses}
use Rattle.es_steps.proofs.RuleLaws.{used-after}
use Rattle.es_steps.proofs.Wraps.{block-only}
use Rattle.es_valid_names.proofs.Claims.{Around, Clear, ClearAll, Distinct, Stand, catch_above, claims, claims_all, elsewhere, in_catch, is_owned}
use Rattle.es_valid_names.proofs.ClearPending.{IsFresh}
use Rattle.es_valid_names.proofs.MoreAround.{Allows, clear-more-all, or-last, or-self}
use Rattle.es_valid_names.proofs.Mute.{by-cases}
use Rattle.es_valid_names.proofs.StandsFit.{is_catch}
use Rattle.es_valid_using.proofs.UsingNamesLists.{AllBound, Moved, moved-apart, moved-both, moved-grown, moved-self}
use Rattle.es_valid_using.proofs.UsingNamesMade.{constants-moved, context-grown, context_node, in_made, near-blocks, protected-moved}
use Rattle.es_valid_using.proofs.UsingNamesPlaces.{Less, Near, as_many, gone, less-self}
use Rattle.es_valid_using.proofs.UsingNamesReplaced.{NodeWent}
use Rattle.es_valid_using.proofs.UsingNamesSteps.{MovesLawful, MovesNames, NodeMoved, clause_above, may_go}

abbrev pub block_above : Label → ℕ → Ancestor
block_above m n = ancestor BlockStatement m done 0 n

-- NAMES that go to a scope inside

bound-names : (ns : List ℕ) (x : Text) (b : Bool) → AllBound (filter is_owned (names_in_scope ns x b))
bound-names [] x b = tt
bound-names (n ∷ ns) x b = at (n == 1)
  where
    at : (v : Bool) → AllBound (if v then name Scope n x b ∷ [] else [])
    at true = (refl, tt)
    at false = tt

pub head-gone : (ns : List ℕ) (x : Text) (b : Bool) → Less true (names_in_scope ns x b) []
head-gone ns x b = gone refl refl (bound-names ns x b)

-- of the body of a catch clause they were the clause's
clause-scopes : (a : Ancestor) (up : List Ancestor) → stands_in CatchClause 1 (a ∷ up) ≡ true → scopes (a ∷ up) ≡ a.number ∷ scopes up
clause-scopes a up e =
    let kind : a.kind ≡ CatchClause = same-kind a.kind CatchClause (and_parts (same_type a.kind CatchClause) (a.index == 1) e).0 in
    λ i. if makes_scope (kind i) up then (if is_boundary (kind i) then a.number ∷ [] else a.number ∷ scopes up) else scopes up

clause-goes : (a : Ancestor) (up : List Ancestor) → stands_in CatchClause 1 (a ∷ up) ≡ true → (a.number == 1) ≡ true → may_go (a ∷ up) ≡ true
clause-goes a up e d = let kind : a.kind ≡ CatchClause = same-kind a.kind CatchClause (and_parts (same_type a.kind CatchClause) (a.index == 1) e).0 in λ i. (d i && not (same_type (kind i) Program)) || may_go up

clause-lost : (up : List Ancestor) → stands_in CatchClause 1 up ≡ true → (x : Text) (b : Bool) → Less (may_go up) (names_in_scope (scopes up) x b) []
clause-lost [] e x b = absurd (cc e)
clause-lost (a ∷ up) e x b = subst (λ (ns : List ℕ). Less (may_go (a ∷ up)) (names_in_scope ns x b) []) (sym (clause-scopes a up e)) (by-cases (Less (may_go (a ∷ up)) (name Scope a.number x b ∷ []) []) (a.number == 1) (λ d. gone (clause-goes a up e d) refl (bound-names (a.number ∷ []) x b)) (λ d. as_many (λ i. if sym d i then name Scope a.number x b ∷ [] else [])))

-- PLACES in blocks

block-scopes : (m : Label) (n : ℕ) (up : List Ancestor) (b : Bool) → stands_in CatchClause 1 up ≡ b → scopes (block_above m n ∷ up) ≡ (if not b then n ∷ scopes up else scopes up)
block-scopes m n up b e = λ i. if not (e i) then n ∷ scopes up else scopes up

-- the made block in place of one that is a statement
near-block : (go : Bool) (m : Label) (up : List Ancestor) → stands_in CatchClause 1 up ≡ false → Near go (block_above m 0 ∷ up) (in_made up)
near-block go m up e =
    let same = block-scopes m 0 up false e in
    near-blocks go m (made [] []) 0 0 up (ancestor TryStatement (made [] []) done 0 0 ∷ up) (λ x. ap (λ ns. filter is_owned (map (λ n. name Scope n x false) ns)) (sym same))
    (λ x b. subst (λ (ns : List ℕ). Less go (names_in_scope ns x b) (name Scope 0 x b ∷ [])) (sym same) (less-self (name Scope 0 x b ∷ []))) refl

-- the made block in one that stays
pub near-inner : (go : Bool) (m : Label) (n : ℕ) (up : List Ancestor) → ((x : Text) (b : Bool) → Less go (names_in_scope (scopes (block_above m n ∷ up)) x b) []) → Near go (block_above m n ∷ up) (in_made (block_above m n ∷ up))
near-inner go m n up lost = near-blocks go m (made [] []) n 0 up (ancestor TryStatement (made [] []) done 0 0 ∷ (block_above m n ∷ up)) (λ x. refl) (λ x b. inner (lost x b)) refl
  where
    inner : {ns : List Name} {x : Text} {b : Bool} → Less go ns [] → Less go ns (name Scope 0 x b ∷ [])
    inner (as_many e) = as_many e
    inner (gone e d h) = gone e d h

-- a block that isn't looked at has its names, or gives them to the clause whose body it is
block-lost : (m : Label) (up : List Ancestor) (x : Text) (b : Bool) → Less (may_go up) (names_in_scope (scopes (block_above m 0 ∷ up)) x b) []
block-lost m up x b = by-cases (Less (may_go up) (names_in_scope (scopes (block_above m 0 ∷ up)) x b) []) (stands_in CatchClause 1 up)
    (λ e. subst (λ (ns : List ℕ). Less (may_go up) (names_in_scope ns x b) []) (sym (block-scopes m 0 up true e)) (clause-lost up e x b))
    (λ e. subst (λ (ns : List ℕ). Less (may_go up) (names_in_scope ns x b) []) (sym (block-scopes m 0 up false e)) (as_many refl))

-- THE RULES in what is made

module _ (c : Around) (b : Bound) where
  declarators-clear : (ds es : Trees) → UsedAll b ds es → ClearAll c elsewhere ds → ClearAll c elsewhere es
  declarators-clear ds es no_more h = tt
  declarators-clear ds es (uses {ds = ds'} {es = es'} u) h = ((tt, refl, (h.0.2.0, ((tt, refl, ((tt, refl, ((tt, refl, tt), ((tt, refl, tt), tt))), ((h.0.2.1.0, tt), tt))), tt))), declarators-clear ds' es' u h.1)

  pub using-clear : (ds es : Trees) (l m : Label) → UsedAll b ds es → Clear c elsewhere (node VariableDeclaration l (many ds then done)) → Clear c elsewhere (node VariableDeclaration m (many es then done))
  using-clear ds es l m u h = (tt, refl, (declarators-clear ds es u h.2.0, tt))

  pub constants-clear : (ts us : Trees) → Constants b ts us → ClearAll c elsewhere ts → ClearAll c elsewhere us
  constants-clear ts us ended h = tt
  constants-clear ts us (stays {ts = ts'} {us = us'} e r) h = (h.0, constants-clear ts' us' r h.1)
  constants-clear ts us (using {l = l} {ds = ds} {es = es} {ts = ts'} {us = us'} e u r) h = (using-clear ds es l (record l { texts = Some (codes "const") ∷ [] }) u h.0, constants-clear ts' us' r h.1)

-- above the statements in the made block, where it is looked at
abbrev pub made_here : List Ancestor
made_here = block_above (made [] []) 1 ∷ []

module _ (d : Around) where
  name-clear : (o : Bound) → Clear d elsewhere (identifier o)
  name-clear o = (tt, refl, tt)

  -- `o.x`, `o.x()`
  member-clear : (o : Bound) (x : Text) → Clear d elsewhere (member_node (identifier o) x)
  member-clear o x = (tt, refl, (name-clear o, (name-clear (record { name = x; symbol = None }), tt)))

  call-clear : (o : Bound) (x : Text) → Clear d elsewhere (call_node (member_node (identifier o) x) [])
  call-clear o x = (tt, refl, (member-clear o x, (tt, tt)))

  context-clear : (c : Bound) → Clear d elsewhere (context_node c)
  context-clear c = (tt, refl, (((tt, refl, (name-clear c, (call-clear (record { name = codes "babelHelpers"; symbol = None }) (codes "usingCtx"), tt))), tt), tt))

  error-clear : (c u : Bound) → Clear d elsewhere (statement_node (assign_node (member_node (identifier c) (codes "e")) (identifier u)))
  error-clear c u = (tt, refl, ((tt, refl, (member-clear c (codes "e"), (name-clear u, tt))), tt))

  end-clear : (c : Bound) → Clear d elsewhere (statement_node (call_node (member_node (identifier c) (codes "d")) []))
  end-clear c = (tt, refl, (call-clear c (codes "d"), tt))

  pub protected-clear : (st : Stand) (c u : Bound) (ts : Trees) → Distinct d.used [] (claims is_owned made_here (context_node c) ++ claims_all is_owned made_here ts) → d.used u.name ≡ true → ClearAll d elsewhere ts → Clear d st (protected c u ts)
  protected-clear st c u ts apart known h =
      let own = subst (λ (gs : List (List Name)). Distinct d.used [] gs) (sym (append-nil (claims is_owned made_here (context_node c) ++ claims_all is_owned made_here ts))) apart in
      (tt, refl, ((own, refl, ((context-clear c, h), tt)), (((refl, (known, tt), tt), refl, (name-clear u, ((tt, refl, ((error-clear c u, tt), tt)), tt))), ((tt, refl, ((end-clear c, tt), tt)), tt))))

-- THE NAMES that are taken

pub record ContextNames (w : Whole) (x : Text) : Type 0 where
  pub context : IsFresh w.in_use (with_context x w).in_use (next_name w x)
  pub error : (with_context x w).in_use error_name ≡ true
  pub more : (y : Text) → w.in_use y ≡ true → (with_context x w).in_use y ≡ true

pub context-names : (w : Whole) (x : Text) → w.in_use x ≡ false → ContextNames w x
context-names w x free = record {
  context = (free, or-self (w.in_use x || bytes_eq x x) (bytes_eq error_name x) (or-last (w.in_use x) (bytes_eq x x) (bytes_eq-self x)));
  error = or-last (w.in_use error_name || bytes_eq x error_name) true refl;
  more = λ y e. used-after (next_name w x ∷ error_of w ∷ []) w.in_use y e;
}

-- the names of the block that is made, where what is declared in place of this is apart
pub made-apart : (w : Whole) (x : Text) → w.in_use x ≡ false → (us : Trees) (gs : List (List Name)) (go : Bool) → Moved w.in_use (with_context x w).in_use go gs (claims_all is_owned made_here us) → Distinct w.in_use [] gs → Distinct (with_context x w).in_use [] (claims is_owned made_here (context_node (next_name w x)) ++ claims_all is_owned made_here us)
made-apart w x free us gs go r d =
    let c = next_name w x in
    let used = (with_context x w).in_use in
    let names = context-names w x free in
    let new : Moved w.in_use used go [] (claims is_owned made_here (context_node c)) = subst (λ (hs : List (List Name)). Moved w.in_use used go [] hs) (append-nil (claims is_owned made_here (context_node c))) (moved-grown (context-grown w.in_use used made_here c names.context)) in
    moved-apart names.more (moved-both new r) d

-- BLOCKS

no-clause : (a b c : Bool) → not (a || b || c) ≡ true → c ≡ false
no-clause true b c e = absurd (cc e)
no-clause false true c e = absurd (cc e)
no-clause false false true e = absurd (cc e)
no-clause false false false e = refl

catch-none : (st : Stand) → is_catch st ≡ false → catch_above st ≡ []
catch-none in_catch e = absurd (cc e)
catch-none _ e = refl

block-form : (a : Sort) (m : Label) (ts : Trees) → has_form a (block_of m ts) ≡ true → trees_form s-Statement s-Statement ts ≡ true
block-form a m ts f = (and_parts (trees_form s-Statement s-Statement ts) true (node_form a BlockStatement m (statements ts then done) f).children).0

module _ (w : Whole) (x : Text) (free : w.in_use x ≡ false) (m : Label) (ts us : Trees) (h : Constants (next_name w x) ts us) (f : trees_form s-Statement s-Statement ts ≡ true) where
  abbrev after : Whole
  after = with_context x w

  abbrev context : Bound
  context = next_name w x

  names : ContextNames w x
  names = context-names w x free

  -- the names of the block that is made, where those of these are apart
  own-apart : (go : Bool) (up : List Ancestor) → Near go up made_here → Distinct w.in_use [] (claims_all is_owned up ts) → Distinct after.in_use [] (claims is_owned made_here (context_node context) ++ claims_all is_owned made_here us)
  own-apart go up near d = made-apart w x free us (claims_all is_owned up ts) go (constants-moved context up made_here near ts us h f) d

  made-clear : (c d : Around) → c.used ≡ w.in_use → d.used ≡ after.in_use → Allows c d → (st : Stand) (go : Bool) (up : List Ancestor) → Near go up made_here → Distinct w.in_use [] (claims_all is_owned up ts) → ClearAll c elsewhere ts → Clear d st (protected context (error_of w) us)
  made-clear c d e g allows st go up near apart k =
      protected-clear d st context (error_of w) us (subst (λ (v : Text → Bool). Distinct v [] (claims is_owned made_here (context_node context) ++ claims_all is_owned made_here us)) (sym g) (own-apart go up near apart)) (ap (λ v. v error_name) g ∙ names.error) (clear-more-all c d allows elsewhere us (constants-clear c context ts us h k))

  -- the names of the block where it is looked at, and is the body of no catch clause
  old-apart : (c : Around) → c.used ≡ w.in_use → (st : Stand) → is_catch st ≡ false → Clear c st (block_of m ts) → Distinct w.in_use [] (claims_all is_owned (block_above m 1 ∷ []) ts)
  old-apart c e st stand k =
      subst (λ (gs : List (List Name)). Distinct w.in_use [] gs) (append-nil (claims_all is_owned (block_above m 1 ∷ []) ts))
      (subst (λ (up : List Ancestor). Distinct w.in_use [] (claims_all is_owned (block_above m 1 ∷ up) ts ++ [])) (catch-none st stand) (subst (λ (v : Text → Bool). Distinct v [] (claims_all is_owned (block_above m 1 ∷ catch_above st) ts ++ [])) e k.0))

  near-here : Near false (block_above m 1 ∷ []) made_here
  near-here = near-blocks false m (made [] []) 1 1 [] [] (λ y. refl) (λ y b. less-self (name Scope 1 y b ∷ [])) refl

  -- A BLOCK THAT IS A STATEMENT
  pub alone-moved : NodeMoved w.in_use after.in_use false (block_of m ts) (protected context (error_of w) us)
  alone-moved = record {
    moved = λ up e. protected-moved w.in_use after.in_use (may_go up) up context (error_of w) us (claims is_owned up (block_of m ts)) names.context
        (subst (λ (gs : List (List Name)). Moved w.in_use after.in_use (may_go up) gs (claims_all is_owned (in_made up) us)) (sym (append-nil (claims_all is_owned (block_above m 0 ∷ up) ts))) (constants-moved context (block_above m 0 ∷ up) (in_made up) (near-block (may_go up) m up e) ts us h f));
    clear = λ c d e g allows st stand l body k. made-clear c d e g allows st false (block_above m 1 ∷ []) near-here (old-apart c e st stand k) k.2.0;
    name = refl;
    key = λ e. absurd (cc e);
    inside = refl;
  }

  -- A BLOCK THAT STAYS, with the statement in it

  part-claims : (up : List Ancestor) (go : Bool) (n : ℕ) → ((y : Text) (b : Bool) → Less go (names_in_scope (scopes (block_above m n ∷ up)) y b) []) → Moved w.in_use after.in_use go (claims_all is_owned (block_above m n ∷ up) ts ++ []) (claims_all is_owned (block_above m n ∷ up) (protected context (error_of w) us before empty) ++ [])
  part-claims up go n lost =
      let in_block : List Ancestor = block_above m n ∷ up in
      let r = protected-moved w.in_use after.in_use go in_block context (error_of w) us (claims_all is_owned in_block ts) names.context (constants-moved context in_block (in_made in_block) (near-inner go m n up lost) ts us h f) in
      moved-both (subst (λ (gs : List (List Name)). Moved w.in_use after.in_use go (claims_all is_owned in_block ts) gs) (sym (append-nil (claims is_owned in_block (protected context (error_of w) us)))) r) (moved-self [])

  pub part-moved : (b : Bool) → NodeMoved w.in_use after.in_use b (block_of m ts) (block_of m (protected context (error_of w) us before empty))
  part-moved b = record {
    moved = λ up e. part-claims up (may_go up) 0 (block-lost m up);
    clear = λ c d e g allows st stand l body k.
        let all = part-claims (catch_above st) true 1 (λ y v. head-gone (scopes (block_above m 1 ∷ catch_above st)) y v) in
        let old = subst (λ (v : Text → Bool). Distinct v [] (claims_all is_owned (block_above m 1 ∷ catch_above st) ts ++ [])) e k.0 in
        let inner : Clear d elsewhere (protected context (error_of w) us) = by-cases (Clear d elsewhere (protected context (error_of w) us)) (is_catch st)
        (λ v. made-clear c d e g allows elsewhere false (block_above m 0 ∷ clause_above l) (near-blocks false m (made [] []) 0 1 (clause_above l) [] (λ y. refl) (λ y x. less-self (name Scope 1 y x ∷ [])) refl) (subst (λ (gs : List (List Name)). Distinct w.in_use [] gs) (append-nil (claims_all is_owned (block_above m 0 ∷ clause_above l) ts)) (body (sym stand ∙ v))) k.2.0)
        (λ v. made-clear c d e g allows elsewhere false (block_above m 1 ∷ []) near-here (old-apart c e st v k) k.2.0) in
        (subst (λ (v : Text → Bool). Distinct v [] (claims_all is_owned (block_above m 1 ∷ catch_above st) (protected context (error_of w) us before empty) ++ [])) (sym g) (moved-apart names.more all old), refl, ((inner, tt), tt));
    name = refl;
    key = λ e. absurd (cc e);
    inside = refl;
  }

pub block-moves : MovesLawful BlockUsing
block-moves = record { only = block-only; at_nodes = nodes }
  where
    nodes : (n : Site) (s s' : Ledger) (t u : Tree) (a : Sort) → BlockUsing n s (at_node t) s' (at_node u) → has_form a t ≡ true → NodeWent MovesNames n s s' t u
    nodes n s s' t u a (of_block {w = w} {m = m} {ts = ts} {us = us} {c = x} place some takes h) f =
        let outside = no-clause (stands_in TryStatement 0 n.above) (stands_in TryStatement 2 n.above) (stands_in CatchClause 1 n.above) place in
        record {
          node_went = subst (λ (b : Bool). NodeMoved w.in_use (with_context x w).in_use b (block_of m ts) (protected (next_name w x) (error_of w) us)) (sym outside) (alone-moved w x takes.fresh.free m ts us h (block-form a m ts f));
          beside = record { pending = refl; this = refl; top = refl; more = (context-names w x takes.fresh.free).more };
          imports = refl;
        }
    nodes n s s' t u a (of_part {w = w} {m = m} {ts = ts} {us = us} {c = x} place some takes h) f = record {
      node_went = part-moved w x takes.fresh.free m ts us h (block-form a m ts f) (stands_in CatchClause 1 n.above);
      beside = record { pending = refl; this = refl; top = refl; more = (context-names w x takes.fresh.free).more };
      imports = refl;
    }
