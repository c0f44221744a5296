-- The body of an arrow that is an expression, and that becomes a body with declarators and a `return`.
use Rattle.std.proofs.Common.{arith, ◌≤◌, ◌+◌, ◌≡◌, ℕ, suc, refl, sym, ap, subst, ◌∙◌, List, [], ◌∷◌, ◌++◌}
use Rattle.std.specs.Prelude.{◌||◌, Bool, true, false, Option, Some, map, if◌then◌else◌}
use Rattle.std.specs.List.{list_any}
use Rattle.es_tree.specs.Words.{Text}
use Rattle.es_resolution.specs.Single.{binds, is_var_of, one_if, scopes_with, scopes_in}
use Rattle.es_tree.specs.Tree.{Tree, node, Fields, done, ◌then◌, one, many, statements, Trees, empty, ◌before◌, kind_of}
use Rattle.es_tree.specs.declared.ast_type.AstType.TheVariants.{FunctionBody, Identifier, ReturnStatement}
use Rattle.es_semantic.specs.RolesOf.{reads, role_at}
use Rattle.es_semantic.specs.declared.place.Role.{Role}
use Rattle.es_semantic.specs.declared.place.Role.TheVariants.{Top}
use Rattle.es_resolution.specs.Declarations.{Bound, sought, has_scope, is_var_scope, declared}
use Rattle.es_resolution.specs.Resolved.{own_of, Place, no_name, parameters_in, name_frame, frame, var_frame, or_around, place_in, Resolved}
use Rattle.es_resolution.specs.Named.{Named, NamedAll}
use Rattle.es_steps.specs.Nodes.{made, declarator, body_node, return_node}
use Rattle.es_steps.specs.Open.{body_with, Pending, written, with_vars}
use Rattle.es_steps.specs.Steps.{IsExpression, names_in_body}
use Rattle.es_steps.proofs.Kept.{Change, Known, plain, Adds, few, limit, Kept, KeptBy, KeptAll}
use Rattle.es_steps.proofs.Kept.Change.{above, below, lexed, sealed}
use Rattle.es_steps.proofs.Nodes.{closing, kept-node}
use Rattle.es_steps.proofs.NoHoist.{no-hoist}
use Rattle.es_steps.proofs.Same.{as-one, as-statements, left-fields, right-fields, left-trees, same, same-all, same-in, same-by}
use Rattle.es_steps.proofs.Written.{written-more, written-same, written-named}

abbrev pub pending_of : List Tree → List Tree → Pending
pending_of vs ls = record { vars = vs; lets = ls }

-- the body with its `return`, whether there are declarators or not
abbrev pub full : List Tree → List Tree → Tree → Tree
full vs ls e = body_node (written (pending_of vs ls) (return_node e before empty))

full-lets : (vs : List Tree) (d : Tree) (ls : List Tree) (e : Tree) → body_with vs (d ∷ ls) e ≡ full vs (d ∷ ls) e
full-lets [] d ls e = refl
full-lets (v ∷ vs) d ls e = refl

pub full-named : (u : Text → Bool) (f : ℕ) (r : Role) (vs ls : List Tree) (e : Tree) → Named u f r (full vs ls e) → Named u f reads e
full-named u f r vs ls e h = (written-named u f Top (pending_of vs ls) (return_node e before empty) h.1.1.0).0.1.0

pub body-named : (u : Text → Bool) (f : ℕ) (vs ls : List Tree) (e : Tree) → Named u f reads (body_with vs ls e) → Named u f reads e
body-named u f [] [] e h = h
body-named u f [] (d ∷ ls) e h = full-named u f reads [] (d ∷ ls) e h
body-named u f (v ∷ vs) ls e h = full-named u f reads (v ∷ vs) ls e h

swap : (b x y : Bool) → b ≡ false → (if b then x else false) ≡ (if b then y else false)
swap true x y e = absurd (cc e)
swap false x y e = refl

-- the parameters around matter to bodies alone
pub scopes-params : (s : ℕ) (P Q : Text → Bool) (r : Role) (t : Tree) → is_var_scope (kind_of t) ≡ false → scopes_with s P r t ≡ scopes_with s Q r t
scopes-params s P Q r (node k l fs) e = ap (λ z. one_if (binds s (name_frame k (role_at r k l fs) fs)) + one_if (if has_scope k then binds s (frame k l (role_at r k l fs) fs) || z else false) + scopes_in s (parameters_in k l (role_at r k l fs) fs) (role_at r k l fs) fs) (swap (is_var_scope k) (list_any (is_var_of s P) (var_frame (role_at r k l fs) fs)) (list_any (is_var_of s Q) (var_frame (role_at r k l fs) fs)) e)

closing-open : (c : Change) → closing c false true ≡ c
closing-open above = refl
closing-open below = refl
closing-open lexed = refl
closing-open sealed = refl

-- what is read declares nothing by itself
pub own-reads : (e : Tree) → own_of reads e ≡ []
own-reads (node Identifier l fs) = refl
own-reads (node _ l fs) = refl

-- what the body of an arrow keeps, seen from outside
abbrev pub body_change : Change → Change
body_change above = above
body_change below = sealed
body_change lexed = sealed
body_change sealed = sealed

closing-body : (c : Change) → closing c true false ≡ body_change c
closing-body above = refl
closing-body below = refl
closing-body lexed = refl
closing-body sealed = refl

module _ (n : Known) where
  abbrev return_roles : Tree → ℕ → Role
  return_roles e = role_at Top ReturnStatement (made [] []) (one e then done)

  return-kept : (b : Place) (c : Change) (e e' : Tree) → Named n.in_use n.free reads e → Kept n (record b { parameters = no_name }) c reads e e' → KeptAll n b c Top (return_node e before empty) (return_node e' before empty)
  return-kept b c e e' used h =
      left-trees n b c Top (return_node e) (return_node e') empty tt
      (subst (λ c. Kept n b c Top (return_node e) (return_node e')) (closing-open c) (kept-node n b c Top ReturnStatement (made [] []) (one e then done) (one e' then done) (tt, tt) (used, tt) (left-fields n (place_in b ReturnStatement (made [] []) (return_roles e) (one e then done)) c (return_roles e) (one e) (one e') done tt (as-one n (record b { parameters = no_name }) c reads e e' h) (same-in (plain n) (λ i. place_in b ReturnStatement (made [] []) (return_roles e) (one e then done) (suc i)) (λ i. return_roles e (suc i)) done tt))))
      (same-all (plain n) b Top empty tt)

  abbrev list_fields : Trees → Fields
  list_fields ts = many empty then statements ts then done

  abbrev list_roles : Trees → ℕ → Role
  list_roles ts = role_at reads FunctionBody (made [] []) (list_fields ts)

  abbrev list_bound : Place → Trees → ℕ → Place
  list_bound b ts = place_in b FunctionBody (made [] []) (list_roles ts) (list_fields ts)

  statements-kept : (b : Place) (c : Change) (ts us : Trees) → NamedAll n.in_use n.free Top ts → KeptAll n (list_bound b ts 1) c Top ts us → Kept n b (body_change c) reads (body_node ts) (body_node us)
  statements-kept b c ts us used h =
      subst (λ c. Kept n b c reads (body_node ts) (body_node us)) (closing-body c) (kept-node n b c reads FunctionBody (made [] []) (list_fields ts) (list_fields us) (tt, tt) (tt, (used, tt))
      (right-fields n (list_bound b ts) c (list_roles ts) (many empty) (statements ts then done) (statements us then done) tt (same-by (plain n) (list_bound b ts 0) (list_roles ts 0) (many empty) tt)
      (left-fields n (λ i. list_bound b ts (suc i)) c (λ i. list_roles ts (suc i)) (statements ts) (statements us) done tt (as-statements n (list_bound b ts 1) c Top ts us h) (same-in (plain n) (λ i. list_bound b ts (suc (suc i))) (λ i. list_roles ts (suc (suc i))) done tt))))

  -- what names find from the list of the body
  abbrev full_names : Place → List Tree → List Tree → Tree → Place
  full_names b vs ls e = list_bound b (written (pending_of vs ls) (return_node e before empty)) 1

  full-same : (b : Place) (c : Change) (vs ls : List Tree) (e e' : Tree) → NamedAll n.in_use n.free Top (written (pending_of vs ls) (return_node e before empty)) → Kept n (full_names b vs ls e) c reads e e' → Kept n b (body_change c) reads (full vs ls e) (full vs ls e')
  full-same b c vs ls e e' used h =
      statements-kept b c (written (pending_of vs ls) (return_node e before empty)) (written (pending_of vs ls) (return_node e' before empty)) used
      (written-same n (full_names b vs ls e) c Top (pending_of vs ls) (return_node e before empty) (return_node e' before empty) used (return-kept (full_names b vs ls e) c e e' (written-named n.in_use n.free Top (pending_of vs ls) (return_node e before empty) used).0.1.0 h))

  full-more : (b : Place) (vs ls : List Tree) (e e' : Tree) → NamedAll n.in_use n.free Top (written (pending_of vs ls) (return_node e before empty)) → Kept n (full_names b vs ls e) above reads e e' → Kept n b sealed reads (full vs ls e) (full (vs ++ map declarator n.given) ls e')
  full-more b vs ls e e' used h =
      statements-kept b below (written (pending_of vs ls) (return_node e before empty)) (written (with_vars n.given (pending_of vs ls)) (return_node e' before empty)) used
      (written-more n (full_names b vs ls e) Top (pending_of vs ls) (return_node e before empty) (return_node e' before empty) used (return-kept (full_names b vs ls e) above e e' (written-named n.in_use n.free Top (pending_of vs ls) (return_node e before empty) used).0.1.0 h))

  -- an expression becomes the body with its `return`
  if_same : (b : Bool) (o : Option ℕ) → (if b then o else o) ≡ o
  if_same true o = refl
  if_same false o = refl

  pub moved : (p : Place) (h : Text → Option ℕ) (P : Text → Bool) (q : Text → Option ℕ) (e : Tree) → ((y : Text) → q y ≡ p.scope y) → Named n.in_use n.free reads e → IsExpression e → Resolved reads p e → Resolved reads (record { scope = q; hoist = h; parameters = P }) e
  moved p h P q e agrees used x d =
      no-hoist h reads (record { scope = q; hoist = p.hoist; parameters = P }) e (x.declares_nothing true)
      ((same (plain n) p reads e used).resolved p (record { scope = q; hoist = p.hoist; parameters = P }) (record { scope = λ y u. agrees y; hoist = λ y u. refl }) (λ b. absurd (cc (b, x.no_body))) tt (record { scope = refl; parameters = λ f. refl }) d)

  abbrev full_fields : Tree → Fields
  full_fields e = many empty then statements (return_node e before empty) then done

  abbrev full_roles : Tree → ℕ → Role
  full_roles e = role_at reads FunctionBody (made [] []) (full_fields e)

  no-frame : (e : Tree) → declared false reads e ≡ [] → frame FunctionBody (made [] []) (full_roles e) (full_fields e) ≡ []
  no-frame e h = rw h

  no-vars : (e : Tree) → declared true reads e ≡ [] → var_frame (full_roles e) (full_fields e) ≡ []
  no-vars e h = rw h

  -- the place of the expression that is returned
  abbrev full_place : Place → Tree → Place
  full_place p e = place_in (place_in p FunctionBody (made [] []) (full_roles e) (full_fields e) 1) ReturnStatement (made [] []) (role_at Top ReturnStatement (made [] []) (one e then done)) (one e then done) 0

  full-agrees : (p : Place) (e : Tree) → IsExpression e → (y : Text) → (full_place p e).scope y ≡ p.scope y
  full-agrees p e x y = (λ i. or_around (sought (no-frame e (x.declares_nothing false) i) y) (if p.parameters y then p.scope y else or_around (sought (no-vars e (x.declares_nothing true) i) y) (p.scope y))) ∙ if_same (p.parameters y) (p.scope y)

  pub in-full : (p : Place) (e : Tree) → Named n.in_use n.free reads e → IsExpression e → Resolved reads p e → Resolved reads p (full [] [] e)
  in-full p e used x d =
      (tt, refl, (tt, (((tt, refl, (moved p (full_place p e).hoist (full_place p e).parameters (full_place p e).scope e (full-agrees p e x) used x d, tt)), tt), tt)))

  pub full-scopes : (s : ℕ) (ps : Text → Bool) (e : Tree) → IsExpression e → scopes_with s ps reads (full [] [] e) ≡ scopes_with s no_name reads e
  full-scopes s ps e x = (λ i. 0 + one_if (binds s (no-frame e (x.declares_nothing false) i) || list_any (is_var_of s ps) (no-vars e (x.declares_nothing true) i)) + scopes_in s no_name (full_roles e) (full_fields e)) ∙ omega arith

  -- WHAT IS KEPT OF A BODY

  nothing-given : (bs cs : List Bound) → Adds n bs cs → cs ≡ [] → (y : Text) (o : Option ℕ) → sought n.given y ≡ Some o → ⊥
  nothing-given bs cs h e y o g = let k : sought [] y ≡ Some o = subst (λ (z : List Bound). sought z y ≡ Some o) e (h.new y o g) in absurd (cc k)

  few-enough : (c : Change) (s : ℕ) (m : ℕ) → m ≤ limit c n s → m ≤ limit sealed n s
  few-enough c s m h = at (binds s n.given) h
    where
      at : (b : Bool) → m ≤ (if b then few c else 1) → m ≤ (if b then 1 else 1)
      at true h = at-change c h
        where
          at-change : (c : Change) → m ≤ few c → m ≤ 1
          at-change above h = omega arith
          at-change below h = omega arith
          at-change lexed h = omega arith
          at-change sealed h = h
      at false h = h

  -- an expression declares nothing around it
  unseen : (b : Place) (c : Change) (e e' : Tree) → IsExpression e → IsExpression e' → Kept n b c reads e e' → Kept n b (body_change c) reads e e'
  unseen b sealed e e' x x' h = h
  unseen b above e e' x x' h = h
  unseen b below e e' x x' h = record {
    kind = h.kind;
    top = λ e. (λ f. absurd (cc f), λ f. absurd (cc f));
    own = h.own;
    lexical = h.lexical;
    hoisted = x'.declares_nothing true ∙ sym (x.declares_nothing true);
    named = h.named;
    scopes = h.scopes;
    new_scopes = λ s ps e. few-enough below s (scopes_with s ps reads e') (h.new_scopes s ps e);
    resolved = λ p q a s v f d. h.resolved p q a (λ k. record { used = (s k).used; new = λ g. (s k).new (λ m. absurd (cc m)) }) (record { scope = λ y o g. absurd (nothing-given (declared true reads e) (declared true reads e') h.hoisted (x'.declares_nothing true) y o g); hoist = λ y o g. absurd (nothing-given (declared true reads e) (declared true reads e') h.hoisted (x'.declares_nothing true) y o g) }) f d;
  }
  unseen b lexed e e' x x' h = record {
    kind = h.kind;
    top = λ e. (λ f. absurd (cc f), λ f. absurd (cc f));
    own = h.own;
    lexical = x'.declares_nothing false ∙ sym (x.declares_nothing false);
    hoisted = h.hoisted;
    named = h.named;
    scopes = h.scopes;
    new_scopes = λ s ps e. few-enough lexed s (scopes_with s ps reads e') (h.new_scopes s ps e);
    resolved = λ p q a s v f d. h.resolved p q a (λ k. record { used = (s k).used; new = λ g. (s k).new (λ m. absurd (cc m)) }) (λ y o g. absurd (nothing-given (declared false reads e) (declared false reads e') h.lexical (x'.declares_nothing false) y o g)) f d;
  }

  -- for an expression it is all the same which parameters are around
  elsewhere : (b b' : Place) (c : Change) (e e' : Tree) → IsExpression e → b'.scope ≡ b.scope → Kept n b' c reads e e' → Kept n b c reads e e'
  elsewhere b b' c e e' x g h = record { kind = h.kind; top = h.top; own = h.own; lexical = h.lexical; hoisted = h.hoisted; named = h.named; scopes = h.scopes; new_scopes = h.new_scopes; resolved = λ p q a s v f d. h.resolved p q a s v (record { scope = f.scope ∙ sym g; parameters = λ k. absurd (cc (k, x.no_body)) }) d }

  pub body-same : (b : Place) (c : Change) (vs ls : List Tree) (e e' : Tree) → IsExpression e → IsExpression e' → Named n.in_use n.free reads (body_with vs ls e) → Kept n (names_in_body b vs ls e) c reads e e' → Kept n b (body_change c) reads (body_with vs ls e) (body_with vs ls e')
  body-same b c [] [] e e' x x' used h = elsewhere b (record b { parameters = no_name }) (body_change c) e e' x refl (unseen (record b { parameters = no_name }) c e e' x x' h)
  body-same b c [] (d ∷ ls) e e' x x' used h = full-same b c [] (d ∷ ls) e e' used.1.1.0 h
  body-same b c (v ∷ vs) ls e e' x x' used h = full-same b c (v ∷ vs) ls e e' used.1.1.0 h

  -- the first declarators of a body
  first-more : (b : Place) (e e' : Tree) → IsExpression e → IsExpression e' → Named n.in_use n.free reads e → Kept n (record b { parameters = no_name }) above reads e e' → (bs : List Bound) → n.given ≡ bs → KeptBy n b sealed reads (one e) (one (body_with (map declarator bs) [] e'))
  first-more b e e' x x' used h [] g = as-one n b sealed reads e e' (record {
    kind = h.kind;
    top = λ e. (λ f. absurd (cc f), λ f. absurd (cc f));
    own = h.own;
    lexical = h.lexical;
    hoisted = h.hoisted;
    named = h.named;
    scopes = h.scopes;
    new_scopes = λ s ps e. few-enough above s (scopes_with s ps reads e') (h.new_scopes s ps e);
    resolved = λ p q a s v f d. h.resolved p q a (λ k. absurd (cc (k, x.no_body))) (record { scope = λ y o k. absurd (none-given y o k); hoist = λ y o k. absurd (none-given y o k) }) (record { scope = f.scope; parameters = λ k. absurd (cc (k, x.no_body)) }) d;
  })
    where
      none-given : (y : Text) (o : Option ℕ) → sought n.given y ≡ Some o → ⊥
      none-given y o k = let m : sought [] y ≡ Some o = subst (λ (bs : List Bound). sought bs y ≡ Some o) g k in absurd (cc m)
  first-more b e e' x x' used h (w ∷ bs) g =
      let k = subst (λ (bs : List Bound). Kept n b sealed reads (full [] [] e) (full (map declarator bs) [] e')) g (full-more b [] [] e e' (((tt, tt), (used, tt)), tt) (elsewhere (full_names b [] [] e) (record b { parameters = no_name }) above e e' x (sym (λ i y. full-agrees b e x y i)) h)) in
      record {
        shape = refl;
        own = sym (own-reads e);
        lexical = sym (x.declares_nothing false);
        hoisted = sym (x.declares_nothing true);
        named = k.named;
        scopes = λ s ps d. k.scopes s ps d ∙ full-scopes s ps e x ∙ scopes-params s no_name ps reads e x.no_body;
        new_scopes = k.new_scopes;
        resolved = λ p q a s v f d. k.resolved p q a (λ d. s) tt f (in-full p e used x d);
      }

  pub body-more : (b : Place) (vs ls : List Tree) (e e' : Tree) → IsExpression e → IsExpression e' → Named n.in_use n.free reads (body_with vs ls e) → Kept n (names_in_body b vs ls e) above reads e e' → KeptBy n b sealed reads (one (body_with vs ls e)) (one (body_with (vs ++ map declarator n.given) ls e'))
  body-more b [] [] e e' x x' used h = first-more b e e' x x' used h n.given refl
  body-more b [] (d ∷ ls) e e' x x' used h = subst (λ (u : Tree). KeptBy n b sealed reads (one (full [] (d ∷ ls) e)) (one u)) (sym (full-lets (map declarator n.given) d ls e')) (as-one n b sealed reads (full [] (d ∷ ls) e) (full (map declarator n.given) (d ∷ ls) e') (full-more b [] (d ∷ ls) e e' used.1.1.0 h))
  body-more b (v ∷ vs) ls e e' x x' used h = as-one n b sealed reads (full (v ∷ vs) ls e) (full (v ∷ (vs ++ map declarator n.given)) ls e') (full-more b (v ∷ vs) ls e e' used.1.1.0 h)
