-- Object spread is lawful: each property stands once in what comes for it.
use Rattle.std.proofs.Common.{arith, ◌+◌, ◌≡◌, ℕ, refl, sym, subst, ◌∙◌, List, [], ◌∷◌, ◌++◌}
use Rattle.std.specs.Prelude.{Bool, true, false, Option, Some, None, codes}
use Rattle.es_tree.specs.Tree.{Tree, node, Label, Fields, done, ◌then◌, one, many, Trees, ◌before◌, trees}
use Rattle.es_tree.specs.declared.ast_type.AstType.TheVariants.{ObjectExpression, SpreadElement}
use Rattle.es_semantic.specs.RolesOf.{reads}
use Rattle.es_semantic.specs.declared.place.Role.{Role}
use Rattle.es_resolution.specs.Declarations.{Bound, declared, declared_among}
use Rattle.es_resolution.specs.Resolved.{Place, no_name}
use Rattle.es_resolution.specs.Single.{scopes_with, scopes_among}
use Rattle.es_steps.specs.Nodes.{made, placed, word, call_node, object_node}
use Rattle.es_steps.specs.ObjectRest.{helper_node}
use Rattle.es_steps.specs.ObjectSpread.{copied, last_copied, Copies, SpreadRule}
use Rattle.es_steps.specs.ObjectSpread.Copies.{no_more, copies, keeps}
use Rattle.es_steps.specs.ObjectSpread.SpreadRule.{spreads}
use Rattle.es_steps.specs.Steps.{Whole, Site}
use Rattle.es_steps.proofs.Kept.{Known, plain}
use Rattle.es_steps.proofs.Made.{Source, standing, Fits, AllFit, both-fit, listed, FitAmong, fits-word, fits-global, fits-member, fits-call, IsPlain, plain-call, Makes}
use Rattle.es_resolution.proofs.MoreNames.{named-more-all}
use Rattle.es_steps.proofs.NoHoist.{left-empty, right-empty}
use Rattle.es_steps.proofs.Raises.{among-append, scopes-append}
use Rattle.es_steps.proofs.Same.{same-all}
use Rattle.es_steps.proofs.Temporaries.{knowing}
use Rattle.es_steps.proofs.Written.{body_place, nil-right}

plain-object : (m : Label) (fs : Fields) → IsPlain (node ObjectExpression m fs)
plain-object m fs = record { kind = refl; no_import = refl; own = λ r. refl; place = λ r p d. d; parameters = λ s ps r. refl }

abbrev unplaced : Label
unplaced = made [] []

-- nothing is declared
abbrev Quiet : List Tree → Type 0
Quiet ts = (v : Bool) → declared_among v reads (trees ts) ≡ []

quiet-more : (ts us : List Tree) → Quiet ts → Quiet us → Quiet (ts ++ us)
quiet-more ts us h k v = among-append v reads ts us ∙ (λ i. h v i ++ k v i)

module _ (n : Known) (b : Place) (source : Source) where
  -- a made call or object, wherever it is placed, and how many scopes of it bind a symbol
  record Copied (k : ℕ → ℕ) (c : Tree) : Type 0 where
    fits : (r : Role) (m : Label) → Fits n b source r (placed m c)
    plain : (m : Label) → IsPlain (placed m c)
    quiet : (v : Bool) (r : Role) (m : Label) → declared v r (placed m c) ≡ []
    scopes : (s : ℕ) (r : Role) (m : Label) → scopes_with s no_name r (placed m c) ≡ k s
    still : placed unplaced c ≡ c

  here : {k : ℕ → ℕ} {c : Tree} → Copied k c → Fits n b source reads c
  here h = subst (λ (z : Tree). Fits n b source reads z) h.still (h.fits reads unplaced)

  quiet-here : {k : ℕ → ℕ} {c : Tree} → Copied k c → (v : Bool) → declared v reads c ≡ []
  quiet-here h v = subst (λ (z : Tree). declared v reads z ≡ []) h.still (h.quiet v reads unplaced)

  scopes-here : {k : ℕ → ℕ} {c : Tree} → Copied k c → (s : ℕ) → scopes_with s no_name reads c ≡ k s
  scopes-here {k} h s = subst (λ (z : Tree). scopes_with s no_name reads z ≡ k s) h.still (h.scopes s reads unplaced)

  fits-object : (r : Role) (m : Label) (ps : List Tree) → AllFit n b source ps → Fits n b source r (placed m (object_node ps))
  fits-object r m ps h = let k = listed n b source ps h in record { named = λ g. ((tt, tt), (k.named g, tt)); resolved = λ p q a g s. (tt, refl, (k.resolved p q a g s, tt)); passes = λ q words new g. (tt, (k.passes q words new g, tt)) }

  an-object : (ps : List Tree) → AllFit n b source ps → Quiet ps → Copied (λ s. scopes_among s no_name reads (trees ps)) (object_node ps)
  an-object ps h e = record { fits = λ r m. fits-object r m ps h; plain = λ m. plain-object _ _; quiet = λ v r m. quiet v; scopes = λ s r m. omega arith; still = refl }
    where
      quiet : (v : Bool) → declared v reads (object_node ps) ≡ []
      quiet true = nil-right (declared_among true reads (trees ps)) ∙ e true
      quiet false = nil-right (declared_among false reads (trees ps)) ∙ e false

  module _ (f : Tree) (f-fits : Fits n b source reads f) (f-quiet : (v : Bool) → declared v reads f ≡ []) (f-scopes : (s : ℕ) → scopes_with s no_name reads f ≡ 0) where
    a-call : (ts : List Tree) → AllFit n b source ts → Quiet ts → Copied (λ s. scopes_among s no_name reads (trees ts)) (call_node f ts)
    a-call ts h e = record { fits = λ r m. fits-call n b source r _ f (trees ts) (λ g. tt) f-fits (listed n b source ts h); plain = λ m. plain-call _ _; quiet = λ v r m. quiet v; scopes = λ s r m. let z = f-scopes s in omega arith; still = refl }
      where
        quiet : (v : Bool) → declared v reads (call_node f ts) ≡ []
        quiet true = (λ i. f-quiet true i ++ (e true i ++ []))
        quiet false = (λ i. f-quiet false i ++ (e false i ++ []))

    -- the copy so far
    abbrev SoFar : (ℕ → ℕ) → Option Tree → Type 0
    SoFar k None = (s : ℕ) → k s ≡ 0
    SoFar k (Some c) = Copied k c

    like : {k j : ℕ → ℕ} {c : Tree} → ((s : ℕ) → k s ≡ j s) → Copied k c → Copied j c
    like e h = record { fits = h.fits; plain = h.plain; quiet = h.quiet; scopes = λ s r m. h.scopes s r m ∙ e s; still = h.still }

    empty-object : Copied (λ s. 0) (object_node [])
    empty-object = an-object [] tt (λ v. refl)

    a-copy : (k : ℕ → ℕ) (c : Option Tree) (ps : List Tree) (e : Tree) → SoFar k c → AllFit n b source ps → Quiet ps → Fits n b source reads e → ((v : Bool) → declared v reads e ≡ []) → Copied (λ s. k s + scopes_among s no_name reads (trees ps) + scopes_with s no_name reads e) (copied f c ps e)
    a-copy k None ps e none h q he qe =
        let o = an-object ps h q in
        like (λ s. let z = none s in omega arith) (a-call (object_node ps ∷ e ∷ []) (here o, (he, tt)) (λ v i. quiet-here o v i ++ (qe v i ++ [])))
    a-copy k (Some c) [] e so h q he qe = like (λ s. let z = scopes-here so s in omega arith) (a-call (c ∷ e ∷ []) (here so, (he, tt)) (λ v i. quiet-here so v i ++ (qe v i ++ [])))
    a-copy k (Some c) (p ∷ ps) e so h q he qe =
        let o = an-object (p ∷ ps) h q in
        like (λ s. let z = scopes-here so s in omega arith) (a-call (c ∷ object_node [] ∷ object_node (p ∷ ps) ∷ e ∷ []) (here so, (here empty-object, (here o, (he, tt)))) (λ v i. quiet-here so v i ++ (quiet-here empty-object v i ++ (quiet-here o v i ++ (qe v i ++ [])))))

    a-last : (k : ℕ → ℕ) (c : Option Tree) (ps : List Tree) → SoFar k c → AllFit n b source ps → Quiet ps → Copied (λ s. k s + scopes_among s no_name reads (trees ps)) (last_copied f c ps)
    a-last k None ps none h q = like (λ s. let z = none s in omega arith) (an-object ps h q)
    a-last k (Some c) [] so h q = like (λ s. omega arith) so
    a-last k (Some c) (p ∷ ps) so h q =
        let o = an-object (p ∷ ps) h q in
        like (λ s. let z = scopes-here so s in omega arith) (a-call (c ∷ object_node [] ∷ object_node (p ∷ ps) ∷ []) (here so, (here empty-object, (here o, tt))) (λ v i. quiet-here so v i ++ (quiet-here empty-object v i ++ (quiet-here o v i ++ []))))

    -- PROPERTIES, one after the other

    first-fits : (t : Tree) (ts : Trees) → FitAmong n b source (t before ts) → Fits n b source reads t
    first-fits t ts h = record { named = λ g. (h.named g).0; resolved = λ p q a g s. (h.resolved p q a g s).0; passes = λ q words new g. (h.passes q words new g).0 }

    rest-fits : (t : Tree) (ts : Trees) → FitAmong n b source (t before ts) → FitAmong n b source ts
    rest-fits t ts h = record { named = λ g. (h.named g).1; resolved = λ p q a g s. (h.resolved p q a g s).1; passes = λ q words new g. (h.passes q words new g).1 }

    spread-fits : (l : Label) (e : Tree) → Fits n b source reads (node SpreadElement l (one e then done)) → Fits n b source reads e
    spread-fits l e h = record { named = λ g. (h.named g).1.0; resolved = λ p q a g s. (h.resolved p q a g s).2.0; passes = λ q words new g. (h.passes q words new g).1.0 }

    spread-quiet : (v : Bool) (l : Label) (e : Tree) → declared v reads (node SpreadElement l (one e then done)) ≡ [] → declared v reads e ≡ []
    spread-quiet true l e h = left-empty (declared true reads e) [] h
    spread-quiet false l e h = left-empty (declared false reads e) [] h

    all-copied : (k : ℕ → ℕ) (c : Option Tree) (ps : List Tree) (ts : Trees) (u : Tree) → Copies f c ps ts u → SoFar k c → AllFit n b source ps → Quiet ps → FitAmong n b source ts → ((v : Bool) → declared_among v reads ts ≡ []) → Copied (λ s. k s + scopes_among s no_name reads (trees ps) + scopes_among s no_name reads ts) u
    all-copied k c ps ts u no_more so h q d e = like (λ s. omega arith) (a-last k c ps so h q)
    all-copied k c ps ts u (copies {l = l} {e = x} {ts = rest} g) so h q d e =
        let first = spread-fits l x (first-fits (node SpreadElement l (one x then done)) rest d) in
        let quiet = λ (v : Bool). spread-quiet v l x (left-empty (declared v reads (node SpreadElement l (one x then done))) (declared_among v reads rest) (e v)) in
        like (λ s. omega arith) (all-copied (λ s. k s + scopes_among s no_name reads (trees ps) + scopes_with s no_name reads x) (Some (copied f c ps x)) [] rest u g (a-copy k c ps x so h q first quiet) tt (λ v. refl) (rest-fits (node SpreadElement l (one x then done)) rest d) (λ v. right-empty (declared v reads (node SpreadElement l (one x then done))) (declared_among v reads rest) (e v)))
    all-copied k c ps ts u (keeps {t = t} {ts = rest} other g) so h q d e =
        let first = first-fits t rest d in
        let quiet = λ (v : Bool). left-empty (declared v reads t) (declared_among v reads rest) (e v) in
        like (λ s. let z = scopes-append s reads ps (t ∷ []) in omega arith) (all-copied k c (ps ++ t ∷ []) rest u g so (both-fit n b source ps (t ∷ []) h (first, tt)) (quiet-more ps (t ∷ []) q (λ v. nil-right (declared v reads t) ∙ quiet v)) (rest-fits t rest d) (λ v. right-empty (declared v reads t) (declared_among v reads rest) (e v)))

abbrev the_helper : Tree
the_helper = helper_node (codes "objectSpread2")

helper-quiet : (v : Bool) → declared v reads the_helper ≡ []
helper-quiet true = refl
helper-quiet false = refl

pub spread-makes : (n : Site) (w : Whole) (bs : List Bound) (t u : Tree) → SpreadRule n w bs t u → Makes n w bs t u
spread-makes n w bs t u (spreads {m = m} {ps = ps} {u = z} unbound used some quiet h) =
    let k = knowing w [] tt in
    let source = standing n (node ObjectExpression m (many ps then done)) in
    let helper = fits-member k n.names source reads _ (word (codes "babelHelpers")) (word (codes "objectSpread2")) (λ g. tt) (fits-global k n.names source _ (codes "babelHelpers") unbound used) (fits-word k n.names source (codes "objectSpread2")) in
    let all = all-copied k n.names source the_helper helper helper-quiet (λ s. refl) (λ s. 0) None [] ps z h (λ s. refl) tt (λ v. refl) properties quiet in
    record {
      taken = tt;
      old = plain-object m (many ps then done);
      made = all.plain m;
      counts = record { declares = λ v. all.quiet v n.role m ∙ sym (were v); scopes = λ s. let z = all.scopes s n.role m in omega arith };
      fits = all.fits n.role m;
    }
  where
    were : (v : Bool) → declared v n.role (node ObjectExpression m (many ps then done)) ≡ []
    were true = nil-right (declared_among true reads ps) ∙ quiet true
    were false = nil-right (declared_among false reads ps) ∙ quiet false

    properties : FitAmong (knowing w [] tt) n.names (standing n (node ObjectExpression m (many ps then done))) ps
    properties = record {
      named = λ g. named-more-all w.in_use (knowing w [] tt).in_use_after (knowing w [] tt).more w.free_symbol (knowing w [] tt).free_after (knowing w [] tt).freer reads ps g.1.0;
      resolved = λ p q a g s. (same-all (plain (knowing w [] tt)) (body_place p) reads ps g.1.0).resolved (body_place p) (body_place q) (record { scope = a.agree.scope; hoist = a.agree.hoist }) (record { used = λ y u. refl; new = λ f y o g. refl }) tt (record { scope = refl; parameters = λ e. refl }) s.2.0;
      passes = λ q words new g. g.1.0;
    }
