-- Numbered visits on which no rule of declared names is broken, and nodes that each keep them: one where there is the other.
use Rattle.std.proofs.Common.{◌≡◌, ◌==◌, ◌≤◌, ◌<◌, ◌+◌, ℕ, zero, suc, inl, inr, refl, sym, ap, subst, ◌∙◌, List, [], ◌∷◌, ◌++◌, arith, append-nil}
use Rattle.std.specs.Prelude.{◌⊎◌, Bool, true, false, ◌&&◌, ◌||◌, if◌then◌else◌}
use Rattle.std.specs.List.{list_any}
use Rattle.std.proofs.lemmas.Bool.{cases_lt, ne_eqb}
use Rattle.std.proofs.lemmas.List.{append_assoc}
use Rattle.es_tree.specs.Ancestors.{Ancestor, ancestor, Visit, classes, is_class, is_module, is_scope, stands_in, visits, visits_in_field, visits_in_fields, visits_in_trees}
use Rattle.es_tree.specs.DeclaredNames.{Name, clashes, declared, is_declared, is_same_name}
use Rattle.es_tree.specs.HasForm.{same_type}
use Rattle.es_tree.specs.StaticRules.{declared_by, is_bad_class, is_bad_export}
use Rattle.es_tree.specs.Tree.{Tree, node, Label, Fields, done, ◌then◌, Field, missing, one, many, statements, Trees, empty, ◌before◌, fields_of, field_size, fields_size, kind_of, tree_size, trees_size}
use Rattle.es_tree.specs.Words.{Text}
use Rattle.es_tree.specs.declared.ast_type.AstType.{AstType}
use Rattle.es_tree.specs.declared.ast_type.AstType.TheVariants.{BlockStatement, CatchClause, ClassDeclaration, ClassExpression, Program}
use Rattle.es_tree.specs.declared.place.Namespace.TheVariants.{PrivateNames, Scope}
use Rattle.es_semantic.proofs.FormEdges.{Edges, EdgesAll, EdgesBy, EdgesIn, is_last}
use Rattle.es_valid_names.proofs.Claims.{Around, Clear, ClearAll, ClearBy, ClearIn, Distinct, OwnClear, Stand, in_catch, around_in, catch_above, claims_in, has_private, in_body, is_owned, is_owner, outside, owned, push, stand_in}
use Rattle.es_valid_names.proofs.Grown.{left-none, or-none, right-none}
use Rattle.es_valid_names.proofs.Mute.{free-declared, free-filter, in_classes, owns-nothing, sealed-field, sealed-tree, sealed-trees}
use Rattle.es_valid_names.proofs.Numbers.{OtherNumbers, catch-flags, cut, declared-same, flags, pick, same-flags, sealed-flags, sealed-outside}
use Rattle.es_valid_names.proofs.Owners.{Apart, EachUsed, any-append, found-groups, only, only-it, only-other, other-only, to-distinct}
use Rattle.es_valid_names.proofs.StandsFit.{Fits, fits-in, is_catch, wrong-says}
use Rattle.es_valid_names.proofs.Visited.{edge-fields, field-groups, fields-groups, groups, groups-append, inner, no-program, tree-groups, trees-groups}

-- NUMBERS of ancestors are smaller

abbrev pub Below : ℕ → List Ancestor → Type 0
Below n [] = Unit {0}
Below n (a ∷ up) = (a.number < n) × Below n up

below-more : (n m : ℕ) (up : List Ancestor) → n ≤ m → Below n up → Below m up
below-more n m [] e h = tt
below-more n m (a ∷ up) e h = ((let d = h.0 in omega arith), below-more n m up e h.1)

others : (n m : ℕ) (up : List Ancestor) → n ≤ m → Below n up → OtherNumbers (only m) up
others n m [] e h = tt
others n m (a ∷ up) e h = (other-only m a.number (λ d. (let b = h.0 in absurd (omega arith))), others n m up e h.1)

-- NOTHING of the node with this number

module _ (m : ℕ) (up : List Ancestor) (o : OtherNumbers (only m) up) where
  pub declared-none : (t : Tree) → pick (only m) (declared up t) ≡ []
  declared-none t = let s = sealed-flags (only m) up o in declared-same (only m) up (flags (only m) up) (same-flags (only m) up) t ∙ free-filter (declared (flags (only m) up) t) (free-declared (flags (only m) up) t s.bound s.private s.first)

  tree-none : (n : ℕ) (t : Tree) → same_type (kind_of t) Program ≡ false → EdgesIn inner (kind_of t) 0 (fields_of t) → ((j : ℕ) → n ≤ j → j < n + tree_size t → j ≡ m → ⊥) → groups (only m) (visits up n t) ≡ []
  tree-none n t p e z = tree-groups (only m) up (flags (only m) up) n t (same-flags (only m) up) (catch-flags (only m) up) p e (λ j a b. only-other m j (z j a b)) ∙ sealed-tree (flags (only m) up) t (sealed-flags (only m) up o)

  trees-none : (k : AstType) (i n : ℕ) (ts : Trees) → EdgesAll inner k i ts → ((j : ℕ) → n ≤ j → j < n + trees_size ts → j ≡ m → ⊥) → groups (only m) (visits_in_trees up n ts) ≡ []
  trees-none k i n ts e z = trees-groups (only m) up (flags (only m) up) k i n ts (same-flags (only m) up) (catch-flags (only m) up) e (λ j a b. only-other m j (z j a b)) ∙ sealed-trees (flags (only m) up) ts (sealed-flags (only m) up o)

  field-none : (k : AstType) (i : ℕ) (last : Bool) (n : ℕ) (f : Field) → EdgesBy inner k i last f → ((j : ℕ) → n ≤ j → j < n + field_size f → j ≡ m → ⊥) → groups (only m) (visits_in_field up n f) ≡ []
  field-none k i last n f e z = field-groups (only m) up (flags (only m) up) k i last n f (same-flags (only m) up) (catch-flags (only m) up) e (λ j a b. only-other m j (z j a b)) ∙ sealed-field (flags (only m) up) f (sealed-flags (only m) up o)

pub fields-none : (m : ℕ) (k : AstType) (l : Label) (all : Fields) (n i s : ℕ) (up : List Ancestor) (fs : Fields) → OtherNumbers (only m) up → (n ≡ m → ⊥) → EdgesIn inner k i fs → ((j : ℕ) → s ≤ j → j < s + fields_size fs → j ≡ m → ⊥) → groups (only m) (visits_in_fields up k l all n i s fs) ≡ []
fields-none m k l all n i s up done o d e z = refl
fields-none m k l all n i s up (f then fs) o d e z =
    groups-append (only m) (visits_in_field (ancestor k l all i n ∷ up) s f) (visits_in_fields up k l all n (suc i) (s + field_size f) fs)
    ∙ (λ x. field-none m (ancestor k l all i n ∷ up) (other-only m n d, o) k i (is_last fs) s f e.0 (λ j a b. z j a (omega arith)) x ++ fields-none m k l all n (suc i) (s + field_size f) up fs o d e.1 (λ j a b. z j (omega arith) (omega arith)) x)

-- THE NAMESPACES OF A NODE

catch-outside : (st : Stand) (k : AstType) (up : List Ancestor) → Fits st up → same_type k BlockStatement ≡ true → stands_in CatchClause 1 up ≡ stands_in CatchClause 1 (outside st k)
catch-outside st BlockStatement up h e = h.catches ∙ at st
  where
    at : (st : Stand) → is_catch st ≡ stands_in CatchClause 1 (catch_above st)
    at in_catch = refl
    at _ = refl
catch-outside st _ up h e = absurd (cc e)

module-outside : (st : Stand) (k : AstType) (up : List Ancestor) → (same_type k Program ≡ true → is_module up ≡ false) → same_type k Program ≡ true → is_module up ≡ is_module (outside st k)
module-outside st Program up h e = h e
module-outside st _ up h e = absurd (cc e)

pub own-groups : (st : Stand) (up : List Ancestor) (n : ℕ) (k : AstType) (l : Label) (fs : Fields) → Fits st up → Below n up → (same_type k Program ≡ true → is_module up ≡ false) → EdgesIn inner k 0 fs → groups (only n) (visits up n (node k l fs)) ≡ owned st k l fs
own-groups st up n k l fs h b p e =
    let o = others n n up (omega arith) b in
    (λ i. push (declared-none n up o (node k l fs) i) (groups (only n) (visits_in_fields up k l fs n 0 (suc n) fs)))
    ∙ fields-groups (only n) up (outside st k) k l fs n 0 (suc n) fs (cut (only n) up (outside st k) o (sealed-outside st k)) (catch-outside st k up h) (module-outside st k up p) e (λ j a c. only-other n j (λ d. absurd (omega arith)))
    ∙ (λ i. claims_in is_owned (outside st k) k l fs (only-it n i) 0 fs)

-- WHAT IS KNOWN AROUND

in-used : (c : Around) (b : Bool) (gs : List (List Name)) → (around_in c b gs).used ≡ c.used
in-used c true gs = refl
in-used c false gs = refl

in-top : (c : Around) (b : Bool) (gs : List (List Name)) → (around_in c b gs).top ≡ c.top
in-top c true gs = refl
in-top c false gs = refl

class-body : (k : AstType) (i : ℕ) → in_body k i ≡ (is_class k && i == 2)
class-body ClassDeclaration zero = refl
class-body ClassDeclaration (suc zero) = refl
class-body ClassDeclaration (suc (suc zero)) = refl
class-body ClassDeclaration (suc (suc (suc i))) = sym (ne_eqb (suc (suc (suc i))) 2 (λ e. absurd (omega arith)))
class-body ClassExpression zero = refl
class-body ClassExpression (suc zero) = refl
class-body ClassExpression (suc (suc zero)) = refl
class-body ClassExpression (suc (suc (suc i))) = sym (ne_eqb (suc (suc (suc i))) 2 (λ e. absurd (omega arith)))
class-body _ i = refl

or-turned : (a b : Bool) → (a || b) ≡ (b || a)
or-turned true true = refl
or-turned true false = refl
or-turned false true = refl
or-turned false false = refl

class-fields : (k : AstType) (i : ℕ) (last : Bool) (t : Tree) → Edges in_classes k i last t → EdgesIn in_classes (kind_of t) 0 (fields_of t)
class-fields k i last (node j l fs) h = h.1

module _ (V : List Visit) where
  abbrev pub all : List Name
  all = declared_by V []

  abbrev pub KnowsTop : Around → Type 0
  KnowsTop c = (x : Text) → c.top x ≡ is_declared all Scope 0 x

  abbrev pub KnowsPrivate : Around → List Ancestor → Type 0
  KnowsPrivate c up = (x : Text) → c.privates x ≡ list_any (λ n. is_declared all PrivateNames n x) (classes up)

  knows-top-in : (c : Around) (b : Bool) (gs : List (List Name)) → KnowsTop c → KnowsTop (around_in c b gs)
  knows-top-in c b gs h x = (λ i. in-top c b gs i x) ∙ h x

  knows-in : (c : Around) (k : AstType) (l : Label) (fs : Fields) (i n : ℕ) (up : List Ancestor) (gs : List (List Name)) → ((x : Text) → is_declared all PrivateNames n x ≡ has_private gs x) → KnowsPrivate c up → KnowsPrivate (around_in c (in_body k i) gs) (ancestor k l fs i n ∷ up)
  knows-in c k l fs i n up gs e h x = at (in_body k i) (is_class k && i == 2) (class-body k i)
    where
      at : (b d : Bool) → b ≡ d → (around_in c b gs).privates x ≡ list_any (λ n. is_declared all PrivateNames n x) (if d then n ∷ classes up else classes up)
      at true true y = or-turned (c.privates x) (has_private gs x) ∙ (λ j. sym (e x) j || h x j)
      at false false y = h x
      at true false y = absurd (cc y)
      at false true y = absurd (cc y)

  private-groups : (n : ℕ) (x : Text) → is_declared all PrivateNames n x ≡ has_private (groups (only n) V) x
  private-groups n x = found-groups n PrivateNames x refl V [] [] refl

  abbrev pub Local : Visit → Type 0
  Local v = (is_bad_export all v.ancestors v.tree || is_bad_class all v.ancestors v.tree) ≡ false

  abbrev pub Locals : List Visit → Type 0
  Locals [] = Unit {0}
  Locals (v ∷ vs) = Local v × Locals vs

  locals-both : (vs us : List Visit) → Locals vs → Locals us → Locals (vs ++ us)
  locals-both [] us h k = k
  locals-both (v ∷ vs) us h k = (h.0, locals-both vs us h.1 k)

  locals-left : (vs us : List Visit) → Locals (vs ++ us) → Locals vs
  locals-left [] us h = tt
  locals-left (v ∷ vs) us h = (h.0, locals-left vs us h.1)

  locals-right : (vs us : List Visit) → Locals (vs ++ us) → Locals us
  locals-right [] us h = h
  locals-right (v ∷ vs) us h = locals-right vs us h.1

  -- FROM VISITS

  -- fewer names earlier
  less-clashes : (es fs gs : List Name) → list_any (λ n. clashes (es ++ fs) n) gs ≡ false → list_any (λ n. clashes es n) gs ≡ false
  less-clashes es fs [] h = refl
  less-clashes es fs (n ∷ gs) h = or-none (clashes es n) _ (left-none (clashes es n) (clashes fs n) (sym (any-append (λ e. is_same_name n.namespace n.owner n.text e && (e.lexical || n.lexical)) es fs) ∙ left-none (clashes (es ++ fs) n) _ h)) (less-clashes es fs gs (right-none (clashes (es ++ fs) n) _ h))

  apart-less : (es fs : List Name) (vs : List Visit) → Apart 0 (es ++ fs) vs → Apart 0 es vs
  apart-less es fs [] h = tt
  apart-less es fs (v ∷ vs) h = (less-clashes es fs (declared v.ancestors v.tree) h.0, apart-less (declared v.ancestors v.tree ++ es) fs vs (subst (λ (ns : List Name). Apart 0 ns vs) (sym (append_assoc (declared v.ancestors v.tree) es fs)) h.1))

  apart-left : (es : List Name) (vs us : List Visit) → Apart 0 es (vs ++ us) → Apart 0 es vs
  apart-left es [] us h = tt
  apart-left es (v ∷ vs) us h = (h.0, apart-left (declared v.ancestors v.tree ++ es) vs us h.1)

  apart-right : (es : List Name) (vs us : List Visit) → Apart 0 es (vs ++ us) → Apart 0 [] us
  apart-right es [] us h = apart-less [] es us h
  apart-right es (v ∷ vs) us h = apart-right (declared v.ancestors v.tree ++ es) vs us h.1

  used-left : (u : Text → Bool) (vs us : List Visit) → EachUsed 0 u (vs ++ us) → EachUsed 0 u vs
  used-left u [] us h = tt
  used-left u (v ∷ vs) us h = (h.0, used-left u vs us h.1)

  used-right : (u : Text → Bool) (vs us : List Visit) → EachUsed 0 u (vs ++ us) → EachUsed 0 u us
  used-right u [] us h = h
  used-right u (v ∷ vs) us h = used-right u vs us h.1

  own-clear : (u : Text → Bool) (b : Bool) (gs : List (List Name)) → Distinct u [] gs → OwnClear u b gs
  own-clear u true gs d = d
  own-clear u false gs d = tt

  -- the whole and this part have the same names of its nodes
  abbrev pub Holds : List Visit → ℕ → ℕ → Type 0
  Holds vs n s = (j : ℕ) → n ≤ j → j < n + s → groups (only j) V ≡ groups (only j) vs

  fields-hold : (k : AstType) (l : Label) (up : List Ancestor) (n : ℕ) (fs : Fields) → Below n up → Holds (visits up n (node k l fs)) n (tree_size (node k l fs)) → Holds (visits_in_fields up k l fs n 0 (suc n) fs) (suc n) (fields_size fs)
  fields-hold k l up n fs b h j e d = h j (omega arith) (omega arith) ∙ (λ i. push (declared-none j up (others n j up (omega arith) b) (node k l fs) i) (groups (only j) (visits_in_fields up k l fs n 0 (suc n) fs)))

  module _ (k : AstType) (l : Label) (all' : Fields) (n i s : ℕ) (up : List Ancestor) (f : Field) (fs : Fields) (b : Below n up) (after : n < s) (edges : EdgesBy inner k i (is_last fs) f) (rest : EdgesIn inner k (suc i) fs) where
    abbrev here : List Visit
    here = visits_in_field (ancestor k l all' i n ∷ up) s f

    abbrev later : List Visit
    later = visits_in_fields up k l all' n (suc i) (s + field_size f) fs

    first-holds : Holds (here ++ later) s (fields_size (f then fs)) → Holds here s (field_size f)
    first-holds h j e d =
        h j e (omega arith) ∙ groups-append (only j) here later
        ∙ (λ x. groups (only j) here ++ fields-none j k l all' n (suc i) (s + field_size f) up fs (others n j up (omega arith) b) (λ y. absurd (omega arith)) rest (λ z p q y. absurd (omega arith)) x)
        ∙ append-nil (groups (only j) here)

    rest-holds : Holds (here ++ later) s (fields_size (f then fs)) → Holds later (s + field_size f) (fields_size fs)
    rest-holds h j e d =
        h j (omega arith) (omega arith) ∙ groups-append (only j) here later
        ∙ (λ x. field-none j (ancestor k l all' i n ∷ up) (other-only j n (λ y. absurd (omega arith)), others n j up (omega arith) b) k i (is_last fs) s f edges (λ z p q y. absurd (omega arith)) x ++ groups (only j) later)

  module _ (k : AstType) (i s : ℕ) (up : List Ancestor) (t : Tree) (ts : Trees) (b : Below s up) (edges : Edges inner k i false t) (rest : EdgesAll inner k i ts) where
    head-holds : Holds (visits up s t ++ visits_in_trees up (s + tree_size t) ts) s (trees_size (t before ts)) → Holds (visits up s t) s (tree_size t)
    head-holds h j e d =
        h j e (omega arith) ∙ groups-append (only j) (visits up s t) (visits_in_trees up (s + tree_size t) ts)
        ∙ (λ x. groups (only j) (visits up s t) ++ trees-none j up (others s j up e b) k i (s + tree_size t) ts rest (λ z p q y. absurd (omega arith)) x)
        ∙ append-nil (groups (only j) (visits up s t))

    tail-holds : Holds (visits up s t ++ visits_in_trees up (s + tree_size t) ts) s (trees_size (t before ts)) → Holds (visits_in_trees up (s + tree_size t) ts) (s + tree_size t) (trees_size ts)
    tail-holds h j e d =
        h j (omega arith) (omega arith) ∙ groups-append (only j) (visits up s t) (visits_in_trees up (s + tree_size t) ts)
        ∙ (λ x. tree-none j up (others s j up (omega arith) b) s t (no-program k i false t edges) (edge-fields k i false t edges) (λ z p q y. absurd (omega arith)) x ++ groups (only j) (visits_in_trees up (s + tree_size t) ts))

  mutual
    pub tree-to : (c : Around) (st : Stand) (up : List Ancestor) (n : ℕ) (t : Tree) → Fits st up → Below n up → KnowsTop c → KnowsPrivate c up → (same_type (kind_of t) Program ≡ true → is_module up ≡ false) → EdgesIn inner (kind_of t) 0 (fields_of t) → Holds (visits up n t) n (tree_size t) → Apart 0 [] (visits up n t) → Locals (visits up n t) → EachUsed 0 c.used (visits up n t) → Clear c st t
    tree-to c st up n (node k l fs) h b top private p e holds apart local used =
        let own = own-groups st up n k l fs h b p e in
        let whole : (x : Text) → is_declared all PrivateNames n x ≡ has_private (owned st k l fs) x = λ x. private-groups n x ∙ ap (λ gs. has_private gs x) (holds n (omega arith) (omega arith) ∙ own) in (
          own-clear c.used (is_owner k) (owned st k l fs) (subst (λ (gs : List (List Name)). Distinct c.used [] gs) own (to-distinct n c.used [] (visits up n (node k l fs)) apart used)),
          wrong-says all up c st k l fs h top private ∙ local.0,
          fields-to c st up k l fs n 0 (suc n) (owned st k l fs) fs h b (omega arith) top private whole e (fields-hold k l up n fs b holds) (apart-less [] (declared up (node k l fs) ++ []) (visits_in_fields up k l fs n 0 (suc n) fs) apart.1) local.1 used.1,
        )

    fields-to : (c : Around) (st : Stand) (up : List Ancestor) (k : AstType) (l : Label) (all' : Fields) (n i s : ℕ) (gs : List (List Name)) (fs : Fields) → Fits st up → Below n up → n < s → KnowsTop c → KnowsPrivate c up → ((x : Text) → is_declared all PrivateNames n x ≡ has_private gs x) → EdgesIn inner k i fs → Holds (visits_in_fields up k l all' n i s fs) s (fields_size fs) → Apart 0 [] (visits_in_fields up k l all' n i s fs) → Locals (visits_in_fields up k l all' n i s fs) → EachUsed 0 c.used (visits_in_fields up k l all' n i s fs) → ClearIn c gs st k all' i fs
    fields-to c st up k l all' n i s gs done h b a top private whole e holds apart local used = tt
    fields-to c st up k l all' n i s gs (f then fs) h b a top private whole e holds apart local used =
        let vs = visits_in_field (ancestor k l all' i n ∷ up) s f in
        let us = visits_in_fields up k l all' n (suc i) (s + field_size f) fs in
        let d = around_in c (in_body k i) gs in (
          field-to d (stand_in st k all' i) (ancestor k l all' i n ∷ up) k i (is_last fs) s f (fits-in st up k l all' i n h) (a, below-more n s up (omega arith) b) (knows-top-in c (in_body k i) gs top) (knows-in c k l all' i n up gs whole private) e.0 (first-holds k l all' n i s up f fs b a e.0 e.1 holds) (apart-left [] vs us apart) (locals-left vs us local) (subst (λ (u : Text → Bool). EachUsed 0 u vs) (sym (in-used c (in_body k i) gs)) (used-left c.used vs us used)),
          fields-to c st up k l all' n (suc i) (s + field_size f) gs fs h b (omega arith) top private whole e.1 (rest-holds k l all' n i s up f fs b a e.0 e.1 holds) (apart-right [] vs us apart) (locals-right vs us local) (used-right c.used vs us used),
        )

    field-to : (c : Around) (st : Stand) (up : List Ancestor) (k : AstType) (i : ℕ) (last : Bool) (s : ℕ) (f : Field) → Fits st up → Below s up → KnowsTop c → KnowsPrivate c up → EdgesBy inner k i last f → Holds (visits_in_field up s f) s (field_size f) → Apart 0 [] (visits_in_field up s f) → Locals (visits_in_field up s f) → EachUsed 0 c.used (visits_in_field up s f) → ClearBy c st f
    field-to c st up k i last s missing h b top private e holds apart local used = tt
    field-to c st up k i last s (one t) h b top private e holds apart local used = tree-to c st up s t h b top private (λ d. absurd (cc (d, no-program k i last t e))) (edge-fields k i last t e) holds apart local used
    field-to c st up k i last s (many ts) h b top private e holds apart local used = trees-to c st up k i s ts h b top private e holds apart local used
    field-to c st up k i last s (statements ts) h b top private e holds apart local used = trees-to c st up k i s ts h b top private e holds apart local used

    trees-to : (c : Around) (st : Stand) (up : List Ancestor) (k : AstType) (i s : ℕ) (ts : Trees) → Fits st up → Below s up → KnowsTop c → KnowsPrivate c up → EdgesAll inner k i ts → Holds (visits_in_trees up s ts) s (trees_size ts) → Apart 0 [] (visits_in_trees up s ts) → Locals (visits_in_trees up s ts) → EachUsed 0 c.used (visits_in_trees up s ts) → ClearAll c st ts
    trees-to c st up k i s empty h b top private e holds apart local used = tt
    trees-to c st up k i s (t before ts) h b top private e holds apart local used =
        let vs = visits up s t in
        let us = visits_in_trees up (s + tree_size t) ts in (
          tree-to c st up s t h b top private (λ d. absurd (cc (d, no-program k i false t e.0))) (edge-fields k i false t e.0) (head-holds k i s up t ts b e.0 e.1 holds) (apart-left [] vs us apart) (locals-left vs us local) (used-left c.used vs us used),
          trees-to c st up k i (s + tree_size t) ts h (below-more s (s + tree_size t) up (omega arith) b) top private e.1 (tail-holds k i s up t ts b e.0 e.1 holds) (apart-right [] vs us apart) (locals-right vs us local) (used-right c.used vs us used),
        )

  -- AND BACK

  -- nothing clashes in the namespaces of these nodes, and each keeps the rules of one node
  pub record Kept (u : Text → Bool) (vs : List Visit) (n s : ℕ) : Type 0 where
    pub distinct : (m : ℕ) → n ≤ m → m < n + s → Distinct u [] (groups (only m) vs)
    pub local : Locals vs

  clear-own : (u : Text → Bool) (b : Bool) (gs : List (List Name)) → (b ≡ false → gs ≡ []) → OwnClear u b gs → Distinct u [] gs
  clear-own u true gs e d = d
  clear-own u false gs e d = subst (λ (xs : List (List Name)). Distinct u [] xs) (sym (e refl)) tt

  no-owner : (a b : Bool) → (a || b) ≡ false → (a ≡ false) × (b ≡ false)
  no-owner true b e = absurd (cc e)
  no-owner false b e = (refl, e)

  both-kept : (u : Text → Bool) (vs us : List Visit) (n s r : ℕ) → Kept u vs n s → Kept u us (n + s) r → ((m : ℕ) → n ≤ m → m < n + s → groups (only m) us ≡ []) → ((m : ℕ) → n + s ≤ m → m < n + s + r → groups (only m) vs ≡ []) → Kept u (vs ++ us) n (s + r)
  both-kept u vs us n s r h k e d = record { distinct = λ m a b. at m a b (cases_lt m (n + s)); local = locals-both vs us h.local k.local }
    where
      at : (m : ℕ) → n ≤ m → m < n + (s + r) → (m < n + s) ⊎ (n + s ≤ m) → Distinct u [] (groups (only m) (vs ++ us))
      at m a b (inl c) = subst (λ (gs : List (List Name)). Distinct u [] gs) (sym (groups-append (only m) vs us ∙ (λ i. groups (only m) vs ++ e m a c i) ∙ append-nil (groups (only m) vs))) (h.distinct m a c)
      at m a b (inr c) = subst (λ (gs : List (List Name)). Distinct u [] gs) (sym (groups-append (only m) vs us ∙ (λ i. d m c (omega arith) i ++ groups (only m) us))) (k.distinct m c (omega arith))

  mutual
    pub tree-from : (c : Around) (st : Stand) (up : List Ancestor) (n : ℕ) (t : Tree) → Fits st up → Below n up → KnowsTop c → KnowsPrivate c up → (same_type (kind_of t) Program ≡ true → is_module up ≡ false) → EdgesIn inner (kind_of t) 0 (fields_of t) → EdgesIn in_classes (kind_of t) 0 (fields_of t) → Holds (visits up n t) n (tree_size t) → Clear c st t → Kept c.used (visits up n t) n (tree_size t)
    tree-from c st up n (node k l fs) h b top private p e g holds clear =
        let own = own-groups st up n k l fs h b p e in
        let whole : (x : Text) → is_declared all PrivateNames n x ≡ has_private (owned st k l fs) x = λ x. private-groups n x ∙ ap (λ gs. has_private gs x) (holds n (omega arith) (omega arith) ∙ own) in
        let below = fields-from c st up k l fs n 0 (suc n) (owned st k l fs) fs h b (omega arith) top private whole e g (fields-hold k l up n fs b holds) clear.2 in
        let mine = clear-own c.used (is_owner k) (owned st k l fs) (λ d. (let q = no-owner (is_scope k) (is_class k) d in owns-nothing (outside st k) (sealed-outside st k) k l fs 1 q.0 q.1 0 fs g)) clear.0 in
        record {
          distinct = λ m a d. at m a d (cases_lt n m) own mine below.distinct;
          local = (sym (wrong-says all up c st k l fs h top private) ∙ clear.1, below.local);
        }
      where
        at : (m : ℕ) → n ≤ m → m < n + tree_size (node k l fs) → (n < m) ⊎ (m ≤ n) → groups (only n) (visits up n (node k l fs)) ≡ owned st k l fs → Distinct c.used [] (owned st k l fs) → ((m : ℕ) → suc n ≤ m → m < suc n + fields_size fs → Distinct c.used [] (groups (only m) (visits_in_fields up k l fs n 0 (suc n) fs))) → Distinct c.used [] (groups (only m) (visits up n (node k l fs)))
        at m a d (inl y) own mine below = subst (λ (gs : List (List Name)). Distinct c.used [] gs) (sym (λ i. push (declared-none m up (others n m up (omega arith) b) (node k l fs) i) (groups (only m) (visits_in_fields up k l fs n 0 (suc n) fs)))) (below m (omega arith) (omega arith))
        at m a d (inr y) own mine below = let same : n ≡ m = omega arith in subst (λ (j : ℕ). Distinct c.used [] (groups (only j) (visits up n (node k l fs)))) same (subst (λ (gs : List (List Name)). Distinct c.used [] gs) (sym own) mine)

    fields-from : (c : Around) (st : Stand) (up : List Ancestor) (k : AstType) (l : Label) (all' : Fields) (n i s : ℕ) (gs : List (List Name)) (fs : Fields) → Fits st up → Below n up → n < s → KnowsTop c → KnowsPrivate c up → ((x : Text) → is_declared all PrivateNames n x ≡ has_private gs x) → EdgesIn inner k i fs → EdgesIn in_classes k i fs → Holds (visits_in_fields up k l all' n i s fs) s (fields_size fs) → ClearIn c gs st k all' i fs → Kept c.used (visits_in_fields up k l all' n i s fs) s (fields_size fs)
    fields-from c st up k l all' n i s gs done h b a top private whole e g holds clear = record { distinct = λ m p q. tt; local = tt }
    fields-from c st up k l all' n i s gs (f then fs) h b a top private whole e g holds clear =
        let vs = visits_in_field (ancestor k l all' i n ∷ up) s f in
        let us = visits_in_fields up k l all' n (suc i) (s + field_size f) fs in
        let d = around_in c (in_body k i) gs in
        let first = field-from d (stand_in st k all' i) (ancestor k l all' i n ∷ up) k i (is_last fs) s f (fits-in st up k l all' i n h) (a, below-more n s up (omega arith) b) (knows-top-in c (in_body k i) gs top) (knows-in c k l all' i n up gs whole private) e.0 g.0 (first-holds k l all' n i s up f fs b a e.0 e.1 holds) clear.0 in
        let rest = fields-from c st up k l all' n (suc i) (s + field_size f) gs fs h b (omega arith) top private whole e.1 g.1 (rest-holds k l all' n i s up f fs b a e.0 e.1 holds) clear.1 in
        both-kept c.used vs us s (field_size f) (fields_size fs) (subst (λ (u : Text → Bool). Kept u vs s (field_size f)) (in-used c (in_body k i) gs) first) rest
        (λ m p q. fields-none m k l all' n (suc i) (s + field_size f) up fs (others n m up (omega arith) b) (λ y. absurd (omega arith)) e.1 (λ z x w y. absurd (omega arith)))
        (λ m p q. field-none m (ancestor k l all' i n ∷ up) (other-only m n (λ y. absurd (omega arith)), others n m up (omega arith) b) k i (is_last fs) s f e.0 (λ z x w y. absurd (omega arith)))

    field-from : (c : Around) (st : Stand) (up : List Ancestor) (k : AstType) (i : ℕ) (last : Bool) (s : ℕ) (f : Field) → Fits st up → Below s up → KnowsTop c → KnowsPrivate c up → EdgesBy inner k i last f → EdgesBy in_classes k i last f → Holds (visits_in_field up s f) s (field_size f) → ClearBy c st f → Kept c.used (visits_in_field up s f) s (field_size f)
    field-from c st up k i last s missing h b top private e g holds clear = record { distinct = λ m p q. tt; local = tt }
    field-from c st up k i last s (one t) h b top private e g holds clear = tree-from c st up s t h b top private (λ d. absurd (cc (d, no-program k i last t e))) (edge-fields k i last t e) (class-fields k i last t g) holds clear
    field-from c st up k i last s (many ts) h b top private e g holds clear = trees-from c st up k i s ts h b top private e g holds clear
    field-from c st up k i last s (statements ts) h b top private e g holds clear = trees-from c st up k i s ts h b top private e g holds clear

    trees-from : (c : Around) (st : Stand) (up : List Ancestor) (k : AstType) (i s : ℕ) (ts : Trees) → Fits st up → Below s up → KnowsTop c → KnowsPrivate c up → EdgesAll inner k i ts → EdgesAll in_classes k i ts → Holds (visits_in_trees up s ts) s (trees_size ts) → ClearAll c st ts → Kept c.used (visits_in_trees up s ts) s (trees_size ts)
    trees-from c st up k i s empty h b top private e g holds clear = record { distinct = λ m p q. tt; local = tt }
    trees-from c st up k i s (t before ts) h b top private e g holds clear =
        let vs = visits up s t in
        let us = visits_in_trees up (s + tree_size t) ts in
        let first = tree-from c st up s t h b top private (λ d. absurd (cc (d, no-program k i false t e.0))) (edge-fields k i false t e.0) (class-fields k i false t g.0) (head-holds k i s up t ts b e.0 e.1 holds) clear.0 in
        let rest = trees-from c st up k i (s + tree_size t) ts h (below-more s (s + tree_size t) up (omega arith) b) top private e.1 g.1 (tail-holds k i s up t ts b e.0 e.1 holds) clear.1 in
        both-kept c.used vs us s (tree_size t) (trees_size ts) first rest
        (λ m p q. trees-none m up (others s m up p b) k i (s + tree_size t) ts e.1 (λ z x w y. absurd (omega arith)))
        (λ m p q. tree-none m up (others s m up (omega arith) b) s t (no-program k i false t e.0) (edge-fields k i false t e.0) (λ z x w y. absurd (omega arith)))
