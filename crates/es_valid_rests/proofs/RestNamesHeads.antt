-- Patterns with an object rest that move out of the head of a loop: the rules of declared names are kept.
use Rattle.std.proofs.Common.{◌≡◌, ℕ, refl, sym, ap, subst, ◌∙◌, List, [], ◌∷◌, ◌++◌}
use Rattle.std.specs.Prelude.{Bool, true, false, not, Option, Some, codes, if◌then◌else◌}
use Rattle.std.proofs.lemmas.Bool.{and_parts}
use Rattle.std.proofs.lemmas.List.{append-nil}
use Rattle.es_tree.specs.Ancestors.{Ancestor, is_module, scopes, stands_in}
use Rattle.es_tree.specs.CoreStaticRules.{is_lexical}
use Rattle.es_tree.specs.DeclaredNames.{Name, bound_names, name}
use Rattle.es_tree.specs.HasForm.{has_form, same_type}
use Rattle.es_tree.specs.Names.{first_text}
use Rattle.es_tree.specs.StaticRules.{is_constructor_key}
use Rattle.es_tree.specs.Tree.{Tree, node, Label, Fields, done, ◌then◌, Field, missing, one, many, statements, empty, ◌before◌, kind_of}
use Rattle.es_tree.specs.Words.{Text}
use Rattle.es_tree.specs.declared.ast_type.AstType.{AstType}
use Rattle.es_tree.specs.declared.ast_type.AstType.TheVariants.{AssignmentExpression, BlockStatement, CatchClause, ExpressionStatement, ForInStatement, ForOfStatement, Program, VariableDeclaration, VariableDeclarator}
use Rattle.es_tree.specs.declared.place.Namespace.TheVariants.{Scope}
use Rattle.es_tree.specs.declared.table.Sort.{Sort}
use Rattle.es_tree.specs.declared.table.Sort.TheVariants.{Expression as s-Expression, ForLeft as s-ForLeft}
use Rattle.es_tree.proofs.NodeForm.{node_form}
use Rattle.es_resolution.specs.Declarations.{Bound}
use Rattle.es_steps.specs.LoopHeads.{HeadRest, IsForEach, TargetHead}
use Rattle.es_steps.specs.LoopHeads.HeadRest.{lexical_head, var_head}
use Rattle.es_steps.specs.LoopHeads.IsForEach.{for_in, for_of}
use Rattle.es_steps.specs.LoopHeads.TargetHead.{target_head}
use Rattle.es_steps.specs.Nodes.{assign_node, block_node, declaration_node, declarator, declarator_with, identifier, made, statement_node}
use Rattle.es_steps.specs.Open.{Additions, Pending}
use Rattle.es_steps.specs.Rules.{next_name, with_made}
use Rattle.es_steps.specs.Slots.{is_slot}
use Rattle.es_steps.specs.Steps.{Ledger, ledger, Site, Whole}
use Rattle.es_steps.specs.Steps.Spot.{at_node}
use Rattle.es_steps.proofs.FormRules.{no-names}
use Rattle.es_steps.proofs.RuleLaws.{used-after}
use Rattle.es_steps.proofs.Temporaries.{AreTaken}
use Rattle.es_valid_names.proofs.Claims.{Around, Clear, ClearBy, Distinct, Stand, above, claims, claims_in, elsewhere, is_owned, push}
use Rattle.es_valid_names.proofs.ClearPending.{expression-mute}
use Rattle.es_valid_names.proofs.ClearRules.{NameLawful, NodeKept, taken-new, use_in}
use Rattle.es_valid_names.proofs.Grown.{Grown, IsNew, grown-both, grown-self, no_list, still-distinct}
use Rattle.es_valid_names.proofs.MoreAround.{Allows, clear-more}
use Rattle.es_valid_names.proofs.Mute.{Free, is_member}
use Rattle.es_valid_names.proofs.OneMore.{one-apart}
use Rattle.es_valid_names.proofs.OneMore.OneMore.{now}
use Rattle.es_tree.specs.Fresh.{IsFreshName}
use Rattle.es_valid_rests.proofs.RestForms.{IsObjectTarget, rest-target}
use Rattle.es_valid_rests.proofs.RestForms.IsObjectTarget.{object_target}
use Rattle.es_valid_rests.proofs.RestNamesParts.{Part, Parts, part-self, parts-both, parts-distinct, same-parts}
use Rattle.es_valid_rests.proofs.RestNamesParts.Part.{none, drop}
use Rattle.es_valid_rests.proofs.RestNamesParts.Parts.{no_list}
use Rattle.es_valid_rests.proofs.RestNamesAround.{Fit, Parent, claims-fit, declarator-fit, declaring, innermost, looked_at, plain-fit, plain-private}
use Rattle.es_valid_rests.proofs.RestNamesAround.Parent.{same_parent, no_parent}
use Rattle.es_valid_rests.proofs.RestNamesCatch.{rest-pattern}
use Rattle.es_valid_rests.proofs.RestNamesFresh.{fresh-claims, fresh_names, vars-grown}

-- LOOPS that take each of some values

loop-scopes : {k : AstType} → IsForEach k → (l : Label) (fs : Fields) (i n : ℕ) (up : List Ancestor) → scopes (above k l fs i n ∷ up) ≡ n ∷ scopes up
loop-scopes for_in l fs i n up = refl
loop-scopes for_of l fs i n up = refl

loop-module : {k : AstType} → IsForEach k → (l : Label) (fs : Fields) (i n : ℕ) (up : List Ancestor) → is_module (above k l fs i n ∷ up) ≡ is_module up
loop-module for_in l fs i n up = refl
loop-module for_of l fs i n up = refl

loop-clause : {k : AstType} → IsForEach k → (l : Label) (fs : Fields) (i n : ℕ) (up : List Ancestor) → stands_in CatchClause 1 (above k l fs i n ∷ up) ≡ false
loop-clause for_in l fs i n up = refl
loop-clause for_of l fs i n up = refl

loop-unbound : {k : AstType} → IsForEach k → (l : Label) (fs : Fields) (i n : ℕ) (up : List Ancestor) (x : Text) → Free (bound_names (above k l fs i n ∷ up) x)
loop-unbound for_in l fs i n up x = tt
loop-unbound for_of l fs i n up x = tt

loop-claims : {k : AstType} → IsForEach k → (m : Label) (fs : Fields) (up : List Ancestor) → claims is_owned up (node k m fs) ≡ claims_in is_owned up k m fs 0 0 fs
loop-claims for_in m fs up = refl
loop-claims for_of m fs up = refl

loop-key : {k : AstType} → IsForEach k → (m : Label) (fs : Fields) → is_constructor_key (Some (node k m fs)) ≡ false
loop-key for_in m fs = refl
loop-key for_of m fs = refl

loop-inside : {k : AstType} → IsForEach k → same_type k Program ≡ false
loop-inside for_in = refl
loop-inside for_of = refl

record LoopClear (c : Around) (k : AstType) (m : Label) (f g h : Field) : Type 0 where
  own : Distinct c.used [] (claims_in is_owned [] k m (f then g then h then done) 1 0 (f then g then h then done))
  head : ClearBy c elsewhere f
  values : ClearBy c elsewhere g
  body : ClearBy c elsewhere h

loop-clear : {k : AstType} → IsForEach k → (c : Around) (st : Stand) (m : Label) (f g h : Field) → Clear c st (node k m (f then g then h then done)) → LoopClear c k m f g h
loop-clear for_in c st m f g h q = record { own = q.0; head = q.2.0; values = q.2.1.0; body = q.2.1.1.0 }
loop-clear for_of c st m f g h q = record { own = q.0; head = q.2.0; values = q.2.1.0; body = q.2.1.1.0 }

clear-loop : {k : AstType} → IsForEach k → (c : Around) (st : Stand) (m : Label) (f g h : Field) → LoopClear c k m f g h → Clear c st (node k m (f then g then h then done))
clear-loop for_in c st m f g h q = (q.own, refl, (q.head, (q.values, (q.body, tt))))
clear-loop for_of c st m f g h q = (q.own, refl, (q.head, (q.values, (q.body, tt))))

-- a block in the place of a loop's field, or in the loop
loop-fit : {loose : Bool} {k : AstType} → IsForEach k → (l l' : Label) (fs gs : Fields) (i n d : ℕ) (up vp : List Ancestor) → is_module vp ≡ is_module up → stands_in CatchClause 1 vp ≡ false → Part loose (looked_at (n ∷ scopes up)) (looked_at (d ∷ scopes vp)) → Part loose (looked_at (n ∷ [])) (looked_at (d ∷ [])) → Fit loose (above k l fs i n ∷ up) (above BlockStatement l' gs 0 d ∷ vp)
loop-fit {loose} {k} each l l' fs gs i n d up vp same clause hoisted first = at each
  where
    after : Part loose (looked_at (n ∷ scopes up)) (looked_at (if not (stands_in CatchClause 1 vp) then d ∷ scopes vp else scopes vp))
    after = subst (λ (b : Bool). Part loose (looked_at (n ∷ scopes up)) (looked_at (if not b then d ∷ scopes vp else scopes vp))) (sym clause) hoisted

    innermost_after : Part loose (looked_at (n ∷ [])) (innermost (if not (stands_in CatchClause 1 vp) then d ∷ scopes vp else scopes vp))
    innermost_after = subst (λ (b : Bool). Part loose (looked_at (n ∷ [])) (innermost (if not b then d ∷ scopes vp else scopes vp))) (sym clause) first

    at : {k : AstType} → IsForEach k → Fit loose (above k l fs i n ∷ up) (above BlockStatement l' gs 0 d ∷ vp)
    at for_in = record { module_around = same; top = refl; clause = refl; hoisted = after; first = innermost_after; bound = λ x. none; declares = λ x. none; private = λ x. plain-private (above ForInStatement l fs i n ∷ up) (above BlockStatement l' gs 0 d ∷ vp) refl refl x }
    at for_of = record { module_around = same; top = refl; clause = refl; hoisted = after; first = innermost_after; bound = λ x. none; declares = λ x. none; private = λ x. plain-private (above ForOfStatement l fs i n ∷ up) (above BlockStatement l' gs 0 d ∷ vp) refl refl x }

loop-values : {k : AstType} → IsForEach k → (a : Sort) (m : Label) (h e b : Tree) → has_form a (node k m (one h then one e then one b then done)) ≡ true → has_form s-Expression e ≡ true
loop-values for_in a m h e b f = (and_parts (has_form s-Expression e) _ (and_parts (has_form s-ForLeft h) _ (node_form a ForInStatement m (one h then one e then one b then done) f).children).1).0
loop-values for_of a m h e b f = (and_parts (has_form s-Expression e) _ (and_parts (has_form s-ForLeft h) _ (node_form a ForOfStatement m (one h then one e then one b then done) f).children).1).0

-- LISTS of the loop before and after

old-shape : (gs es hs : List (List Name)) → es ≡ [] → gs ++ (es ++ (hs ++ [])) ≡ gs ++ hs
old-shape gs es hs e = λ i. gs ++ (e i ++ append-nil hs i)

block-shape : (gs hs : List (List Name)) → (gs ++ (hs ++ [])) ++ [] ≡ gs ++ hs
block-shape gs hs = append-nil (gs ++ (hs ++ [])) ∙ ap (λ xs. gs ++ xs) (append-nil hs)

new-shape : (ns es gs hs : List (List Name)) → es ≡ [] → (((ns ++ []) ++ []) ++ []) ++ (es ++ ((((gs ++ (hs ++ [])) ++ []) ++ []))) ≡ ns ++ (gs ++ hs)
new-shape ns es gs hs e = λ i. append-nil (append-nil (append-nil ns i) i) i ++ (e i ++ (append-nil _ ∙ block-shape gs hs) i)

-- a fresh name in the head, as the loop sees it, and what is around it
head-own : (v : Bool) (x : Text) → push (fresh_names v (1 ∷ []) x) [] ≡ (name Scope 1 x v ∷ []) ∷ []
head-own true x = refl
head-own false x = refl

head-grown : (used used' : Text → Bool) (v : Bool) (ns : List ℕ) (x : Text) → used x ≡ false → used' x ≡ true → Grown used used' [] (push (fresh_names v (0 ∷ ns) x) [])
head-grown used used' true ns x e d = no_list
head-grown used used' false ns x e d = vars-grown used used' x e d (0 ∷ ns)

-- the statements of the block in the loop
abbrev block_of : Tree → Tree → Fields
block_of u b = statements (u before b before empty) then done

abbrev in_block : Tree → Tree → ℕ → List Ancestor → List Ancestor
in_block u b d vp = above BlockStatement (made [] []) (block_of u b) 0 d ∷ vp

-- what moves from the head of a loop to a statement of a block: what it declares where the ancestors of the two fit, and what is clear there
pub record MovesHead (t u b : Tree) : Type 0 where
  pub parts : {k : AstType} → IsForEach k → (m : Label) (fs : Fields) {loose : Bool} (n d : ℕ) (up vp : List Ancestor) → Fit loose (above k m fs 0 n ∷ up) (in_block u b d vp) → Parts loose (claims is_owned (above k m fs 0 n ∷ up) t) (claims is_owned (in_block u b d vp) u)
  pub clear : (c d : Around) → Allows c d → Clear c elsewhere t → Clear d elsewhere u

module _ {k : AstType} (each : IsForEach k) (m : Label) (word : Text) (t u e b : Tree) (x : Bound) (moves : MovesHead t u b) (values : has_form s-Expression e ≡ true) where
  abbrev old : Fields
  old = one t then one e then one b then done

  abbrev new : Fields
  new = one (declaration_node word (declarator x ∷ [])) then one e then one (block_node (u before b before empty)) then done

  abbrev in_loop : ℕ → ℕ → List Ancestor → List Ancestor
  in_loop i n up = above k m old i n ∷ up

  abbrev in_made : ℕ → List Ancestor → List Ancestor
  in_made d vp = in_block u b d vp

  abbrev new_part : Fields
  new_part = one (identifier x) then missing then done

  abbrev new_parts : Fields
  new_parts = many (declarator x before empty) then done

  abbrev new_param : ℕ → List Ancestor → List Ancestor
  new_param n up = declaring (made [] []) new_part (made (Some word ∷ []) []) new_parts (above k m new 0 n ∷ up)

  both-parts : {loose : Bool} (n d : ℕ) (up vp : List Ancestor) → Fit loose (in_loop 0 n up) (in_made d vp) → Fit loose (in_loop 2 n up) (in_made d vp) → Parent loose (in_loop 2 n up) (in_made d vp) → Parts loose (claims is_owned (in_loop 0 n up) t ++ claims is_owned (in_loop 2 n up) b) (claims is_owned (in_made d vp) u ++ claims is_owned (in_made d vp) b)
  both-parts n d up vp f g h = parts-both (moves.parts each m old n d up vp f) (claims-fit (in_loop 2 n up) (in_made d vp) g h b)

  silent : (n : ℕ) (up : List Ancestor) → claims is_owned (in_loop 1 n up) e ≡ []
  silent n up = expression-mute (in_loop 1 n up) e values (λ y. loop-unbound each m old 1 n up y)

  old-claims : (n : ℕ) (up : List Ancestor) → claims_in is_owned up k m old n 0 old ≡ claims is_owned (in_loop 0 n up) t ++ claims is_owned (in_loop 2 n up) b
  old-claims n up = old-shape (claims is_owned (in_loop 0 n up) t) (claims is_owned (in_loop 1 n up) e) (claims is_owned (in_loop 2 n up) b) (silent n up)

  new-claims : (n : ℕ) (up : List Ancestor) → claims_in is_owned up k m new n 0 new ≡ claims is_owned (new_param n up) (identifier x) ++ (claims is_owned (in_made 0 (in_loop 2 n up)) u ++ claims is_owned (in_made 0 (in_loop 2 n up)) b)
  new-claims n up = new-shape (claims is_owned (new_param n up) (identifier x)) (claims is_owned (in_loop 1 n up) e) (claims is_owned (in_made 0 (in_loop 2 n up)) u) (claims is_owned (in_made 0 (in_loop 2 n up)) b) (silent n up)

  fresh-head : (n : ℕ) (up : List Ancestor) → claims is_owned (new_param n up) (identifier x) ≡ push (fresh_names (is_lexical word) (n ∷ scopes up) x.name) []
  fresh-head n up = fresh-claims (made [] []) (made (Some word ∷ []) []) new_part new_parts (above k m new 0 n ∷ up) x ∙ ap (λ ns. push (fresh_names (is_lexical word) ns x.name) []) (loop-scopes each m new 0 n up)

  -- the made block in the loop
  made-fit : {loose : Bool} (i n : ℕ) (up : List Ancestor) → Part loose (looked_at (n ∷ scopes up)) (looked_at (0 ∷ (n ∷ scopes up))) → Part loose (looked_at (n ∷ [])) (looked_at (0 ∷ [])) → Fit loose (in_loop i n up) (in_made 0 (in_loop 2 n up))
  made-fit {loose} i n up h f = loop-fit each m (made [] []) old (block_of u b) i n 0 up (in_loop 2 n up) (loop-module each m old 2 n up) (loop-clause each m old 2 n up) (subst (λ (ns : List ℕ). Part loose (looked_at (n ∷ scopes up)) (looked_at (0 ∷ ns))) (sym (loop-scopes each m old 2 n up)) h) f

  module _ (used used' : Text → Bool) (free : used x.name ≡ false) (known : used' x.name ≡ true) where
    head-claims : (up : List Ancestor) → Grown used used' (claims is_owned up (node k m old)) (claims is_owned up (node k m new))
    head-claims up =
        let fit : (i : ℕ) → Fit false (in_loop i 0 up) (in_made 0 (in_loop 2 0 up)) = λ i. made-fit i 0 up (part-self _) (part-self _) in
        let same = same-parts (both-parts 0 0 up (in_loop 2 0 up) (fit 0) (fit 2) (same_parent refl)) in
        let earlier = loop-claims each m old up ∙ old-claims 0 up in
        let later = loop-claims each m new up ∙ new-claims 0 up ∙ (λ i. fresh-head 0 up i ++ same i) in
        let mine = claims is_owned (in_loop 0 0 up) t ++ claims is_owned (in_loop 2 0 up) b in
        subst (λ (gs : List (List Name)). Grown used used' gs (claims is_owned up (node k m new))) (sym earlier)
        (subst (λ (gs : List (List Name)). Grown used used' mine gs) (sym later)
        (grown-both (head-grown used used' (is_lexical word) (scopes up) x.name free known) (grown-self mine)))

    module _ (more : (y : Text) → used y ≡ true → used' y ≡ true) (start : Distinct used [] (claims_in is_owned [] k m old 1 0 old)) where
      begins : Distinct used [] (claims is_owned (in_loop 0 1 []) t ++ claims is_owned (in_loop 2 1 []) b)
      begins = subst (λ (gs : List (List Name)). Distinct used [] gs) (old-claims 1 []) start

      loop-distinct : Distinct used' [] (claims_in is_owned [] k m new 1 0 new)
      loop-distinct =
          let fit : (i : ℕ) → Fit true (in_loop i 1 []) (in_made 0 (in_loop 2 1 [])) = λ i. made-fit i 1 [] (part-self _) (drop 1 refl none) in
          let parts = both-parts 1 0 [] (in_loop 2 1 []) (fit 0) (fit 2) (no_parent refl refl) in
          let moved = claims is_owned (in_made 0 (in_loop 2 1 [])) u ++ claims is_owned (in_made 0 (in_loop 2 1 [])) b in
          let named = new-claims 1 [] ∙ (λ i. (fresh-head 1 [] ∙ head-own (is_lexical word) x.name) i ++ moved) in
          let n = name Scope 1 x.name (is_lexical word) in
          let fresh : IsNew used used' n = record { space = refl; fresh = free; known = known } in
          subst (λ (gs : List (List Name)). Distinct used' [] gs) (sym named) (one-apart used used' n fresh more (now _) (parts-distinct used parts begins))

      made-distinct : Distinct used' [] ((claims is_owned (in_made 1 []) u ++ (claims is_owned (in_made 1 []) b ++ [])) ++ [])
      made-distinct =
          let fit : (i : ℕ) → Fit true (in_loop i 1 []) (in_made 1 []) = λ i. loop-fit each m (made [] []) old (block_of u b) i 1 1 [] [] refl refl (part-self _) (part-self _) in
          let parts = both-parts 1 1 [] [] (fit 0) (fit 2) (same_parent refl) in
          still-distinct used used' more [] _ (subst (λ (gs : List (List Name)). Distinct used [] gs) (sym (block-shape (claims is_owned (in_made 1 []) u) (claims is_owned (in_made 1 []) b))) (parts-distinct used parts begins))

-- one of them
head-kept : (w : Whole) (q : Pending) (o : Option Bound) (y : Additions) (a : Sort) {k : AstType} → IsForEach k → (m : Label) (word : Text) (t u e b : Tree) (x : Text) → MovesHead t u b → IsFreshName w.in_use (codes "ref") x → has_form a (node k m (one t then one e then one b then done)) ≡ true →
    NodeKept (ledger w q o y) (ledger (with_made (next_name w x ∷ []) w) q o y) (node k m (one t then one e then one b then done)) (node k m (one (declaration_node word (declarator (next_name w x) ∷ [])) then one e then one (block_node (u before b before empty)) then done))
head-kept w q o y a {k} each m word t u e b x moves fresh f =
    let name : Bound = next_name w x in
    let s = ledger w q o y in
    let s' = ledger (with_made (name ∷ []) w) q o y in
    let taken : AreTaken w.in_use w.free_symbol (name ∷ []) = ((fresh.free, refl), tt) in
    let new = taken-new w (name ∷ []) taken in
    let values = loop-values each a m t e b f in
    record {
      grown = head-claims each m word t u e b name moves values (use_in s) (use_in s') new.0.0 new.0.1;
      clear = λ c d g later h st z.
          let was = loop-clear each c st m _ _ _ z in
          let free : c.used name.name ≡ false = (λ i. g i name.name) ∙ new.0.0 in
          let known : d.used name.name ≡ true = (λ i. later i name.name) ∙ new.0.1 in
          let own = loop-distinct each m word t u e b name moves values c.used d.used free known h.used was.own in
          let made_own = made-distinct each m word t u e b name moves values c.used d.used free known h.used was.own in
          let declares : Clear d elsewhere (declarator name) = (tt, refl, ((tt, refl, tt), (tt, tt))) in
          clear-loop each d st m _ _ _ (record { own = own; head = (tt, refl, ((declares, tt), tt)); values = clear-more c d h elsewhere e was.values; body = (made_own, refl, ((moves.clear c d h was.head, (clear-more c d h elsewhere b was.body, tt)), tt)) });
      name = refl;
      key = λ z. absurd (cc (loop-key each m (one (declaration_node word (declarator name ∷ [])) then one e then one (block_node (u before b before empty)) then done), z));
      imports = refl;
      inside = loop-inside each;
      names = record { names = []; pending = no-names q; this = refl; top = refl; fresh = tt; more = λ z g. used-after (name ∷ []) w.in_use z g };
    }

-- DECLARATIONS

module _ (l l' : Label) (p b : Tree) (x : Bound) where
  abbrev old_part : Fields
  old_part = one p then missing then done

  abbrev old_parts : Fields
  old_parts = many (node VariableDeclarator l' old_part before empty) then done

  abbrev moved_part : Fields
  moved_part = one p then one (identifier x) then done

  abbrev moved_parts : Fields
  moved_parts = many (declarator_with p (identifier x) before empty) then done

  declaration-parts : is_member (kind_of p) ≡ false → {loose : Bool} (up vp : List Ancestor) → Fit loose up vp → Parts loose (claims is_owned up (node VariableDeclaration l old_parts)) (claims is_owned vp (declaration_node (first_text l.texts) (declarator_with p (identifier x) ∷ [])))
  declaration-parts member up vp f =
      let word = made (Some (first_text l.texts) ∷ []) [] in
      parts-both (parts-both (parts-both (plain-fit (declaring l' old_part l old_parts up) (declaring (made [] []) moved_part word moved_parts vp) (declarator-fit l' (made [] []) l word old_part moved_part old_parts moved_parts up vp refl f) p member) no_list) no_list) no_list

  declaration-moves : is_member (kind_of p) ≡ false → MovesHead (node VariableDeclaration l old_parts) (declaration_node (first_text l.texts) (declarator_with p (identifier x) ∷ [])) b
  declaration-moves member = record {
    parts = λ each m fs n d up vp f. declaration-parts member _ _ f;
    clear = λ c d h z. (tt, refl, (((tt, refl, (clear-more c d h elsewhere p z.2.0.0.2.0, ((tt, refl, tt), tt))), tt), tt));
  }

-- TARGETS

module _ (t b : Tree) (x : Bound) where
  abbrev assigned : List Ancestor → List Ancestor
  assigned vp = above AssignmentExpression (made (Some (codes "=") ∷ []) []) (one t then one (identifier x) then done) 0 0 ∷ (above ExpressionStatement (made [] []) (one (assign_node t (identifier x)) then done) 0 0 ∷ vp)

  into : {k : AstType} → IsForEach k → (m : Label) (fs : Fields) {loose : Bool} (n : ℕ) (up vp : List Ancestor) → Fit loose (above k m fs 0 n ∷ up) vp → Fit loose (above k m fs 0 n ∷ up) (assigned vp)
  into for_in m fs n up vp f = record { module_around = f.module_around; top = refl; clause = refl; hoisted = f.hoisted; first = f.first; bound = λ y. none; declares = λ y. none; private = λ y. plain-private (above ForInStatement m fs 0 n ∷ up) (assigned vp) refl refl y }
  into for_of m fs n up vp f = record { module_around = f.module_around; top = refl; clause = refl; hoisted = f.hoisted; first = f.first; bound = λ y. none; declares = λ y. none; private = λ y. plain-private (above ForOfStatement m fs 0 n ∷ up) (assigned vp) refl refl y }

  assignment-parts : is_member (kind_of t) ≡ false → {loose : Bool} (up vp : List Ancestor) → Fit loose up (assigned vp) → Parts loose (claims is_owned up t) (claims is_owned vp (statement_node (assign_node t (identifier x))))
  assignment-parts member {loose} up vp f =
      let inner = claims is_owned (assigned vp) t in
      subst (λ (gs : List (List Name)). Parts loose (claims is_owned up t) gs) (sym (append-nil (inner ++ []) ∙ append-nil inner)) (plain-fit up (assigned vp) f t member)

  assignment-moves : is_member (kind_of t) ≡ false → MovesHead t (statement_node (assign_node t (identifier x))) b
  assignment-moves member = record {
    parts = λ each m fs n d up vp f. assignment-parts member _ _ (into each m fs n up _ f);
    clear = λ c d h z. (tt, refl, ((tt, refl, (clear-more c d h elsewhere t z, ((tt, refl, tt), tt))), tt));
  }

target-member : (t : Tree) → IsObjectTarget t → is_member (kind_of t) ≡ false
target-member t object_target = refl

-- THE RULES

pub head-rest-names : NameLawful HeadRest
head-rest-names = record { at_nodes = nodes }
  where
    nodes : (n : Site) (s s' : Ledger) (t u : Tree) (a : Sort) → (is_slot n.above ≡ true → a ≡ s-Expression) → HeadRest n s (at_node t) s' (at_node u) → has_form a t ≡ true → has_form a u ≡ true → NodeKept s s' t u
    nodes n s s' t u a slot (lexical_head {w = w} {s = o} {q = q} {a = y} {m = m} {l = l} {l' = l'} {p = p} {e = e} {b = b} {x = x} each holds fresh lexical apart silent body) f formed = head-kept w q o y a each m (first_text l.texts) _ _ e b x (declaration-moves l l' p b (next_name w x) (rest-pattern p holds).member) fresh f
    nodes n s s' t u a slot (var_head {w = w} {s = o} {q = q} {a = y} {m = m} {l = l} {l' = l'} {p = p} {e = e} {b = b} {x = x} each holds fresh by_var names silent body) f formed = head-kept w q o y a each m (first_text l.texts) _ _ e b x (declaration-moves l l' p b (next_name w x) (rest-pattern p holds).member) fresh f

pub target-head-names : NameLawful TargetHead
target-head-names = record { at_nodes = nodes }
  where
    nodes : (n : Site) (s s' : Ledger) (t u : Tree) (a : Sort) → (is_slot n.above ≡ true → a ≡ s-Expression) → TargetHead n s (at_node t) s' (at_node u) → has_form a t ≡ true → has_form a u ≡ true → NodeKept s s' t u
    nodes n s s' t u a slot (target_head {w = w} {s = o} {q = q} {a = y} {m = m} {t = p} {e = e} {b = b} {x = x} each rest fresh silent quiet body) f formed = head-kept w q o y a each m (codes "var") p _ e b x (assignment-moves p b (next_name w x) (target-member p (rest-target p rest))) fresh f
