-- Names of a parameter's pattern that come later, as a body declares them by `let`, and a fresh parameter in their place: where the body
-- declares none of them by `var`, nothing clashes that didn't clash.
use Rattle.std.proofs.Common.{◌≡◌, ◌==◌, refl, sym, ap, subst, ◌∙◌, List, [], ◌∷◌, ◌++◌}
use Rattle.std.specs.Prelude.{Bool, true, false, ◌&&◌, ◌||◌, bytes_eq}
use Rattle.std.specs.List.{list_any}
use Rattle.std.proofs.lemmas.Bool.{and_parts}
use Rattle.std.proofs.lemmas.List.{append_assoc}
use Rattle.es_tree.specs.DeclaredNames.{Name, clashes, is_same_name, name, namespace_number}
use Rattle.es_tree.specs.Words.{Text}
use Rattle.es_tree.specs.declared.place.Namespace.{Namespace}
use Rattle.es_tree.specs.declared.place.Namespace.TheVariants.{Parameters, Scope}
use Rattle.es_resolution.proofs.Basics.{bytes_eq-equal}
use Rattle.es_runs.proofs.Temporary.{bytes_eq-flip}
use Rattle.es_valid_names.proofs.Claims.{AllUsed, Distinct, is_scope_space, joined}
use Rattle.es_valid_names.proofs.Grown.{left-none, new-same, right-none, still-distinct}
use Rattle.es_valid_using.proofs.UsingVars.{AllFine, EachFine, Fine}
use Rattle.es_valid_rests.proofs.RestNamesBinding.{Turned, let_name, pair}
use Rattle.es_valid_rests.proofs.RestNamesBinding.Turned.{no_list, turned}
use Rattle.es_valid_rests.proofs.RestNamesInserted.{Away, AwayLists, AwayNames, away-lists, inserted, same-flip}
use Rattle.es_valid_rests.proofs.RestNamesOrdinary.{AllOrdinary, EachOrdinary, is_parameters}
use Rattle.es_valid_rests.proofs.RestNamesParts.{Parts, parts-both, parts-distinct, parts-none, parts-self}

-- A NAME BEFORE: what comes after it doesn't clash with it

abbrev Has : Name → List Name → Type 0
Has n ns = (m : Name) → clashes ns m ≡ false → (is_same_name m.namespace m.owner m.text n && (n.lexical || m.lexical)) ≡ false

has-later : (n k : Name) (ns : List Name) → Has n ns → Has n (k ∷ ns)
has-later n k ns h m e = h m (right-none _ (clashes ns m) e)

has-list : (n : Name) (g ns : List Name) → Has n ns → Has n (g ++ ns)
has-list n [] ns h = h
has-list n (k ∷ g) ns h = has-later n k (g ++ ns) (has-list n g ns h)

has-joined : (n : Name) (gs : List (List Name)) (ns : List Name) → Has n ns → Has n (joined gs ns)
has-joined n [] ns h = h
has-joined n (g ∷ gs) ns h = has-joined n gs (g ++ ns) (has-list n g ns h)

has-parameter : (x : Text) (ns : List Name) → Has (name Parameters 1 x true) (pair x ++ ns)
has-parameter x ns m e = left-none _ (clashes (name Scope 1 x false ∷ ns) m) e

has-scope : (x : Text) (ns : List Name) → Has (name Scope 1 x false) (pair x ++ ns)
has-scope x ns m e = left-none _ (clashes ns m) (right-none _ (clashes (name Scope 1 x false ∷ ns) m) e)

after-lists : (used : Text → Bool) (ns : List Name) (gs hs : List (List Name)) → Distinct used ns (gs ++ hs) → Distinct used (joined gs ns) hs
after-lists used ns [] hs d = d
after-lists used ns (g ∷ gs) hs d = after-lists used (g ++ ns) gs hs d.2

away-first : (g : List Name) (gs hs : List (List Name)) → AwayLists g (gs ++ hs) → AwayLists g gs
away-first g [] hs h = tt
away-first g (f ∷ gs) hs h = (h.0, away-first g gs hs h.1)

away-last : (g : List Name) (gs hs : List (List Name)) → AwayLists g (gs ++ hs) → AwayLists g hs
away-last g [] hs h = h
away-last g (f ∷ gs) hs h = away-last g gs hs h.1

-- OTHER PARAMETERS, which pass a test that the name doesn't

others-away : (ok : Text → Bool) (x : Text) → ((z : Text) → ok z ≡ true → bytes_eq z x ≡ false) → {gs hs : List (List Name)} → Turned ok gs hs → AwayLists (let_name x) gs
others-away ok x apart no_list = tt
others-away ok x apart (turned z e h) = (((refl, tt), ((apart z e, tt), tt)), others-away ok x apart h)

-- THE SAME PATTERN'S

and-true : (b : Bool) → (b && true) ≡ false → b ≡ false
and-true true e = absurd (cc e)
and-true false e = refl

pattern-away : (used : Text → Bool) (ok : Text → Bool) (x : Text) (ns : List Name) → Has (name Parameters 1 x true) ns → {gs hs : List (List Name)} (ks : List (List Name)) → Turned ok gs hs → Distinct used ns (gs ++ ks) → AwayLists (let_name x) hs
pattern-away used ok x ns has ks no_list d = tt
pattern-away used ok x ns has ks (turned y e h) d =
    let other : bytes_eq x y ≡ false = and-true (bytes_eq x y) (has (name Parameters 1 y true) (left-none (clashes ns (name Parameters 1 y true)) _ d.0)) in
    (((bytes_eq-flip y x ∙ other, tt), tt), pattern-away used ok x (pair y ++ ns) (has-list (name Parameters 1 x true) (pair y) ns has) ks h d.2)

-- THE BODY'S: those declared by another word clashed, and those by `var` pass a test that the name doesn't

scope-space : (s : Namespace) → (namespace_number s == 0) ≡ true → is_scope_space s ≡ true
scope-space Scope e = refl
scope-space _ e = absurd (cc e)

module _ (used : Text → Bool) (ok : Text → Bool) (x : Text) (apart : (y : Text) → ok y ≡ true → bytes_eq y x ≡ false) where
  name-away : (m : Name) → Fine ok m → (is_same_name m.namespace m.owner m.text (name Scope 1 x false) && (false || m.lexical)) ≡ false → Away (name Scope 1 x true) m
  name-away m fine e = at (is_same_name Scope 1 x m) refl
    where
      weak : (a b : Bool) → a ≡ true → (a && (false || b)) ≡ false → b ≡ false
      weak true b d e = e
      weak false b d e = absurd (cc d)

      at : (b : Bool) → is_same_name Scope 1 x m ≡ b → b ≡ false
      at false d = refl
      at true d =
          let p = and_parts (namespace_number m.namespace == 0 && m.owner == 1) (bytes_eq m.text x) d in
          let q = and_parts (namespace_number m.namespace == 0) (m.owner == 1) p.0 in
          let by_var = weak (is_same_name m.namespace m.owner m.text (name Scope 1 x false)) m.lexical (same-flip (name Scope 1 x false) m ∙ d) e in
          absurd (cc (sym p.1 ∙ apart m.text (fine (scope-space m.namespace q.0) by_var q.1)))

  names-away : (g ns : List Name) → Has (name Scope 1 x false) ns → AllFine ok g → list_any (λ m. clashes ns m) g ≡ false → AwayNames (let_name x) g
  names-away [] ns has f e = tt
  names-away (m ∷ g) ns has f e = ((name-away m f.0 (has m (left-none (clashes ns m) _ e)), tt), names-away g ns has f.1 (right-none (clashes ns m) _ e))

  body-away : (gs : List (List Name)) (ns : List Name) → Has (name Scope 1 x false) ns → EachFine ok gs → Distinct used ns gs → AwayLists (let_name x) gs
  body-away [] ns has f d = tt
  body-away (g ∷ gs) ns has f d = (names-away g ns has f.0 d.0, body-away gs (g ++ ns) (has-list (name Scope 1 x false) g ns has) f.1 d.2)

-- TOGETHER

data Ready (used : Text → Bool) (gs hs : List (List Name)) : List (List Name) → Type 0 where
  none : Ready used gs hs []
  ready : {ks : List (List Name)} (x : Text) → used x ≡ true → AwayLists (let_name x) gs → AwayLists (let_name x) hs → AwayLists (let_name x) ks → Ready used gs hs ks → Ready used gs hs (let_name x ∷ ks)

insert-ready : (used : Text → Bool) (gs hs : List (List Name)) {ks : List (List Name)} → Ready used gs hs ks → Distinct used [] (gs ++ hs) → Distinct used [] (gs ++ (ks ++ hs))
insert-ready used gs hs none d = d
insert-ready used gs hs (ready {ks = ks} x e w v u r) d = inserted used (let_name x) gs (ks ++ hs) (e, tt) w (away-lists (let_name x) ks hs u v) (insert-ready used gs hs r d)

-- a fresh parameter
module _ (used : Text → Bool) (x : Text) (free : used x ≡ false) where
  used-differ : (z : Text) → used z ≡ true → bytes_eq z x ≡ false
  used-differ z e = at (bytes_eq z x) refl
    where
      at : (b : Bool) → bytes_eq z x ≡ b → b ≡ false
      at true d = absurd (cc (sym e ∙ ap used (bytes_eq-equal z x d) ∙ free))
      at false d = refl

  parameter-away : (s : Namespace) (b c : Bool) → (b && is_parameters s) ≡ false → (namespace_number s == 1 && b && c) ≡ false
  parameter-away Parameters true c h = absurd (cc h)
  parameter-away Parameters false c h = refl
  parameter-away _ b c h = refl

  fresh-names : (g : List Name) → AllOrdinary g → AllUsed used g → AwayNames (pair x) g
  fresh-names [] h u = tt
  fresh-names (m ∷ g) h u = ((parameter-away m.namespace (m.owner == 1) (bytes_eq m.text x) h.0, (new-same used (name Scope 1 x false) m refl free u.0, tt)), fresh-names g h.1 u.1)

  fresh-lists : (gs : List (List Name)) (ns : List Name) → EachOrdinary gs → Distinct used ns gs → AwayLists (pair x) gs
  fresh-lists [] ns h d = tt
  fresh-lists (g ∷ gs) ns h d = (fresh-names g h.0 d.1, fresh-lists gs (g ++ ns) h.1 d.2)

  fresh-pairs : {ok : Text → Bool} {gs hs : List (List Name)} (ks : List (List Name)) (ns : List Name) → Turned ok gs hs → Distinct used ns (gs ++ ks) → AwayLists (pair x) gs
  fresh-pairs ks ns no_list d = tt
  fresh-pairs ks ns (turned z e h) d =
      let other = used-differ z d.1.1.0 in
      (((other, (refl, tt)), ((refl, (other, tt)), tt)), fresh-pairs ks (pair z ++ ns) h d.2)

  fresh-lets : {gs hs ks : List (List Name)} → Ready used gs hs ks → AwayLists (pair x) ks
  fresh-lets none = tt
  fresh-lets (ready z e w v u r) = (((refl, (used-differ z e, tt)), tt), fresh-lets r)

regrouped : (es cs qs ks : List (List Name)) → (es ++ (cs ++ qs)) ++ ks ≡ es ++ (cs ++ (qs ++ ks))
regrouped es cs qs ks = simp append_assoc refl

module _ (used used' : Text → Bool) (more : (y : Text) → used y ≡ true → used' y ≡ true) (earlier_ok ok later_ok body_ok : Text → Bool) (before : (x z : Text) → ok x ≡ true → earlier_ok z ≡ true → bytes_eq z x ≡ false) (behind : (x z : Text) → ok x ≡ true → later_ok z ≡ true → bytes_eq z x ≡ false)
    (inside : (x z : Text) → ok x ≡ true → body_ok z ≡ true → bytes_eq z x ≡ false) {es es' cs cs' : List (List Name)} (earlier : Turned earlier_ok es es') (later : Turned later_ok cs cs') (qs ks : List (List Name)) (fine : EachFine body_ok (qs ++ ks)) (ordinary : EachOrdinary (qs ++ ks)) where
  make-ready : {gs hs : List (List Name)} → Turned ok gs hs → (ns : List Name) → Distinct used ns (gs ++ (cs ++ (qs ++ ks))) → Ready used (es ++ (cs ++ qs)) ks hs
  make-ready no_list ns d = none
  make-ready (turned {gs = gs} {hs = hs} x e h) ns d =
      let rest = d.2 in
      let at_body = after-lists used (joined gs (pair x ++ ns)) cs (qs ++ ks) (after-lists used (pair x ++ ns) gs (cs ++ (qs ++ ks)) rest) in
      let body = body-away used body_ok x (λ z f. inside x z e f) (qs ++ ks) (joined cs (joined gs (pair x ++ ns))) (has-joined (name Scope 1 x false) cs (joined gs (pair x ++ ns)) (has-joined (name Scope 1 x false) gs (pair x ++ ns) (has-scope x ns))) fine at_body in
      let first = away-lists (let_name x) es (cs ++ qs) (others-away earlier_ok x (λ z f. before x z e f) earlier) (away-lists (let_name x) cs qs (others-away later_ok x (λ z f. behind x z e f) later) (away-first (let_name x) qs ks body)) in
      ready x d.1.1.0 first (away-last (let_name x) qs ks body) (pattern-away used ok x (pair x ++ ns) (has-parameter x ns) (cs ++ (qs ++ ks)) h rest) (make-ready h (pair x ++ ns) rest)

  pub moved-late : {gs hs : List (List Name)} → Turned ok gs hs → (x : Text) → used x ≡ false → used' x ≡ true → Distinct used [] (es ++ (gs ++ (cs ++ (qs ++ ks)))) → Distinct used' [] (es ++ (pair x ∷ (cs ++ (qs ++ (hs ++ ks)))))
  moved-late {gs} {hs} h x free known d =
      let r = make-ready h (joined es []) (after-lists used [] es (gs ++ (cs ++ (qs ++ ks))) d) in
      let parts : Parts true (es ++ (gs ++ (cs ++ (qs ++ ks)))) (es ++ (cs ++ (qs ++ ks))) = parts-both (parts-self es) (parts-both (parts-none refl gs) (parts-self (cs ++ (qs ++ ks)))) in
      let others = parts-distinct used parts d in
      let with_lets = insert-ready used (es ++ (cs ++ qs)) ks r (subst (λ (ls : List (List Name)). Distinct used [] ls) (sym (regrouped es cs qs ks)) others) in
      let all = subst (λ (ls : List (List Name)). Distinct used [] ls) (regrouped es cs qs (hs ++ ks)) with_lets in
      let behind_them = after-lists used [] es (cs ++ (qs ++ ks)) others in
      let body = fresh-lists used x free (qs ++ ks) (joined cs (joined es [])) ordinary (after-lists used (joined es []) cs (qs ++ ks) behind_them) in
      let last = away-lists (pair x) qs (hs ++ ks) (away-first (pair x) qs ks body) (away-lists (pair x) hs ks (fresh-lets used x free r) (away-last (pair x) qs ks body)) in
      inserted used' (pair x) es (cs ++ (qs ++ (hs ++ ks))) (refl, (known, tt)) (fresh-pairs used x free (cs ++ (qs ++ ks)) [] earlier others) (away-lists (pair x) cs (qs ++ (hs ++ ks)) (fresh-pairs used x free (qs ++ ks) (joined es []) later behind_them) last)
      (still-distinct used used' more [] (es ++ (cs ++ (qs ++ (hs ++ ks)))) all)
