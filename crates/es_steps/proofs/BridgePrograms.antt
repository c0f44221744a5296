-- In an open core program each name that is bound is found from everywhere: the program's scope.
use Rattle.std.proofs.Common.{◌≡◌, ◌⊎◌, inl, inr, ℕ, refl, sym, ap, subst, ◌∙◌, List, [], ◌∷◌, map}
use Rattle.std.proofs.lemmas.Bool.{and_from, and_parts}
use Rattle.std.proofs.lemmas.List.Folds.{list_any-append}
use Rattle.std.specs.Prelude.{Bool, true, false, ◌&&◌, ◌||◌, Option, Some, None, bytes_eq, codes, is_some}
use Rattle.es_tree.specs.Bare.{bare, bare_fields}
use Rattle.es_tree.specs.Scopes.{declarator_name, declared_in_body, declared_names, declares, is_named, name_in}
use Rattle.es_tree.specs.Tree.{Tree, node, Label, Fields, done, ◌then◌, Field, missing, one, many, statements, Trees, ◌before◌, trees}
use Rattle.es_tree.specs.Words.{Text}
use Rattle.es_tree.specs.declared.ast_type.AstType.TheVariants.{Program}
use Rattle.es_semantic.specs.Places.{is_inside}
use Rattle.es_semantic.specs.RolesOf.{reads, role_at}
use Rattle.es_semantic.specs.declared.place.Role.TheVariants.{Top}
use Rattle.es_runs.specs.Open as plain
use Rattle.es_runs.proofs.Declarations.{binds_name, body_of, declarators, is_declarator, program_fields}
use Rattle.es_runs.proofs.DeclaredNames.{is_declared-declares}
use Rattle.es_runs.proofs.KnownPrograms.{declared-all_pending}
use Rattle.es_runs.proofs.OpenRuns.{IsOpenProgram}
use Rattle.es_runs.proofs.Temporary.{bytes_eq-flip}
use Rattle.es_runs.proofs.Written.{one_of, plain as plain_pending}
use Rattle.es_resolution.specs.Declarations.{Bound, declared_among, declared_by as declared_around, declared_in as declared_within, sought}
use Rattle.es_resolution.specs.Resolved.{bound_by, inner, nowhere, or_around}
use Rattle.es_steps.specs.CoreBridge.{forgotten, forgotten_fields, forgotten_pending, forgotten_trees, forgotten_whole}
use Rattle.es_steps.specs.Open.{Pending, Additions, declaration, whole_list, open_node, OpenFields, ends, ◌and◌, gap, child, body, children, list, OpenTrees, finished_fields, finished_trees}
use Rattle.es_steps.specs.Steps.{Whole}
use Rattle.es_steps.proofs.BridgeDeclarations.{BoundSomewhere, body-bound, body-same, bound-left, bound-right, finished-all, finished-in, right-in, sought-right}
use Rattle.es_steps.proofs.BridgeLinks.{TiedIn, asks}
use Rattle.es_steps.proofs.BridgeOpen.{OpenTiedIn, list-written}
use Rattle.es_steps.proofs.BridgeSteps.{WholeTied, look_of}

-- WRITTEN DECLARATORS

abbrev head_of : Tree → List Tree → Tree
head_of t [] = t
head_of t (u ∷ us) = u

abbrev tail_of : List Tree → List Tree
tail_of [] = []
tail_of (u ∷ us) = us

name_in-bare : (fs : Fields) → name_in (bare_fields fs) ≡ name_in fs
name_in-bare done = refl
name_in-bare (missing then fs) = refl
name_in-bare (one (node k l gs) then fs) = refl
name_in-bare (many ts then fs) = refl
name_in-bare (statements ts then fs) = refl

declarator_name-bare : (t : Tree) → declarator_name (bare t) ≡ declarator_name t
declarator_name-bare (node k l fs) = name_in-bare fs

binds_name-bare : (fs : Fields) → binds_name (bare_fields fs) ≡ binds_name fs
binds_name-bare done = refl
binds_name-bare (missing then fs) = refl
binds_name-bare (one (node k l gs) then fs) = refl
binds_name-bare (many ts then fs) = refl
binds_name-bare (statements ts then fs) = refl

abbrev is_name_declarator : Tree → Bool
is_name_declarator (node k l fs) = is_declarator k && binds_name fs

name_declarator-bare : (t : Tree) → is_name_declarator (bare t) ≡ is_name_declarator t
name_declarator-bare (node k l fs) = ap (λ b. is_declarator k && b) (binds_name-bare fs)

declarators-first : (t : Tree) (ts : Trees) → declarators (t before ts) ≡ (is_name_declarator t && declarators ts)
declarators-first (node k l fs) ts = refl

module _ (y : Text) where
  vars-fit : (vs : List Tree) (names : List Text) → map bare vs ≡ map plain.declarator_node names → (declarators (trees vs) ≡ true) × (declares (declared_names (codes "var") (trees vs)) y ≡ one_of names y)
  vars-fit [] [] e = (refl, refl)
  vars-fit [] (x ∷ xs) e = absurd (cc e)
  vars-fit (v ∷ vs) [] e = absurd (cc e)
  vars-fit (v ∷ vs) (x ∷ xs) e =
      let first : bare v ≡ plain.declarator_node x = ap (head_of v) e in
      let rest = vars-fit vs xs (ap tail_of e) in
      let name : declarator_name v ≡ x = sym (declarator_name-bare v) ∙ ap declarator_name first in (
        declarators-first v (trees vs) ∙ and_from (is_name_declarator v) (declarators (trees vs)) (sym (name_declarator-bare v) ∙ ap is_name_declarator first) rest.0,
        λ i. (ap (λ z. bytes_eq z y) name ∙ bytes_eq-flip x y) i || rest.1 i,
      )

  lets-none : (ls : List Tree) → map bare ls ≡ [] → ls ≡ []
  lets-none [] e = refl
  lets-none (t ∷ ts) e = absurd (cc e)

  vars-written : (vs : List Tree) (names : List Text) (ts : Trees) → map bare vs ≡ map plain.declarator_node names → body_of ts ≡ true → (one_of names y || declares (declared_in_body ts) y) ≡ true →
      (body_of (declaration (codes "var") vs ts) ≡ true) × (declares (declared_in_body (declaration (codes "var") vs ts)) y ≡ true)
  vars-written [] [] ts e h d = (h, d)
  vars-written [] (x ∷ xs) ts e h d = absurd (cc e)
  vars-written (v ∷ vs) [] ts e h d = absurd (cc e)
  vars-written (v ∷ vs) (x ∷ xs) ts e h d =
      let fit = vars-fit (v ∷ vs) (x ∷ xs) e in (
        and_from (declarators (trees (v ∷ vs))) (body_of ts) fit.0 h,
        list_any-append (is_named y) (declared_names (codes "var") (trees (v ∷ vs))) (declared_in_body ts) ∙ (ap (λ b. b || declares (declared_in_body ts) y) fit.1 ∙ d),
      )

  pending-written : (q : Pending) (names : List Text) (ts : Trees) → forgotten_pending q ≡ plain_pending names → body_of ts ≡ true → (one_of names y || declares (declared_in_body ts) y) ≡ true →
      (body_of (declaration (codes "var") q.vars (declaration (codes "let") q.lets ts)) ≡ true) × (declares (declared_in_body (declaration (codes "var") q.vars (declaration (codes "let") q.lets ts))) y ≡ true)
  pending-written q names ts e h d =
      let none : q.lets ≡ [] = lets-none q.lets (ap (λ (z : plain.Pending). z.lets) e) in
      subst (λ ls. (body_of (declaration (codes "var") q.vars (declaration (codes "let") ls ts)) ≡ true) × (declares (declared_in_body (declaration (codes "var") q.vars (declaration (codes "let") ls ts))) y ≡ true)) (sym none)
      (vars-written q.vars names ts (ap (λ (z : plain.Pending). z.vars) e) h d)

-- THE SCOPE OF A PROGRAM

module _ (used : Text → Bool) (look : Text → Option ℕ) (l : Label) where
  found : (lex var : List Bound) (x : Text) (o : Option (Option ℕ)) → sought lex x ≡ o → (is_some o ≡ true → o ≡ Some (look x)) → (bound_by lex x ≡ true) ⊎ (sought var x ≡ Some (look x)) → or_around o (or_around (sought var x) None) ≡ look x
  found lex var x (Some s) e f h = ap (λ o. or_around o (or_around (sought var x) None)) (f refl)
  found lex var x None e f (inl h) = absurd (let no : false ≡ true = sym (ap is_some e) ∙ h in cc no)
  found lex var x None e f (inr h) = ap (λ o. or_around o None) h

  -- a name that a list of the program declares is found from everywhere in the program
  pub scope-found : (f : Field) (ts : Trees) (fs : Fields) (x : Text) → TiedIn used look (asks true Program l) (f then (statements ts then fs)) → BoundSomewhere x ts → inner nowhere Program l (role_at reads Program l (f then (statements ts then fs))) (f then (statements ts then fs)) x ≡ look x
  scope-found f ts fs x h d =
      let gs : Fields = f then (statements ts then fs) in
      let roles = role_at reads Program l gs in
      let lex = declared_within false (is_inside Program) roles gs in
      let var = declared_within true (λ i. true) roles gs in
      let lex-right = right-in used look false (asks true Program l) (is_inside Program) roles gs (λ i e. absurd (cc e)) h in
      let var-right = right-in used look true (asks true Program l) (λ i. true) roles gs (λ i e. absurd (cc e)) h in
      found lex var x (sought lex x) refl (sought-right used look lex x lex-right)
      (at d (sought-right used look var x var-right))
    where
      at : BoundSomewhere x ts → (bound_by (declared_within true (λ i. true) (role_at reads Program l (f then (statements ts then fs))) (f then (statements ts then fs))) x ≡ true → sought (declared_within true (λ i. true) (role_at reads Program l (f then (statements ts then fs))) (f then (statements ts then fs))) x ≡ Some (look x)) →
          (bound_by (declared_within false (is_inside Program) (role_at reads Program l (f then (statements ts then fs))) (f then (statements ts then fs))) x ≡ true) ⊎ (sought (declared_within true (λ i. true) (role_at reads Program l (f then (statements ts then fs))) (f then (statements ts then fs))) x ≡ Some (look x))
      at (inl k) g = inl (bound-right (declared_around false reads f) _ x (bound-left (declared_among false Top ts) _ x k))
      at (inr k) g = inr (g (bound-right (declared_around true reads f) _ x (bound-left (declared_among true Top ts) _ x k)))

-- OPEN PROGRAMS

-- an open program by its parts
pub record ProgramShape (fs : OpenFields) : Type 0 where
  pub directives : OpenTrees
  pub pending : Pending
  pub this_name : Option Bound
  pub additions : Additions
  pub statements_of : OpenTrees
  pub whole : fs ≡ (children directives and (list pending this_name additions statements_of and ends))
  pub fits : body_of (plain.closed_trees (forgotten_trees statements_of)) ≡ true

and-none : (b : Bool) → (b && false) ≡ true → ⊥
and-none true h = cc h
and-none false h = cc h

pub program-shape : (fs : OpenFields) → program_fields (plain.closed_fields (forgotten_fields fs)) ≡ true → ProgramShape fs
program-shape (children ds and (list q x b ts and ends)) h = record { directives = ds; pending = q; this_name = x; additions = b; statements_of = ts; whole = refl; fits = (and_parts (body_of (plain.closed_trees (forgotten_trees ts))) true h).0 }
program-shape (children ds and (list q x b ts and (f and fs))) h = absurd (and-none (body_of (plain.closed_trees (forgotten_trees ts))) h)
program-shape (children ds and (gap and fs)) h = absurd (cc h)
program-shape (children ds and (child t and fs)) h = absurd (cc h)
program-shape (children ds and (body p t and fs)) h = absurd (cc h)
program-shape (children ds and (children ts and fs)) h = absurd (cc h)
program-shape (children ds and ends) h = absurd (cc h)
program-shape ends h = absurd (cc h)
program-shape (gap and fs) h = absurd (cc h)
program-shape (child t and fs) h = absurd (cc h)
program-shape (body p t and fs) h = absurd (cc h)
program-shape (list q x b ts and fs) h = absurd (cc h)

module _ (p : Tree) (w : Whole) (tied : WholeTied p w) (l : Label) where
  by-shape : (ds : OpenTrees) (q : Pending) (x : Option Bound) (b : Additions) (ts : OpenTrees) → OpenTiedIn w.in_use (look_of p w) (asks true Program l) (children ds and (list q x b ts and ends)) → IsOpenProgram (forgotten_whole p w) (forgotten (open_node Program l (children ds and (list q x b ts and ends)))) →
      body_of (plain.closed_trees (forgotten_trees ts)) ≡ true → (y : Text) → is_some (look_of p w y) ≡ true → inner nowhere Program l (role_at reads Program l (finished_fields (children ds and (list q x b ts and ends)))) (finished_fields (children ds and (list q x b ts and ends))) y ≡ look_of p w y
  by-shape ds q x b ts h known fits y e =
      let names = known.names in
      let same = body-same w.in_use (look_of p w) ts h.1.0.3 in
      let closed = declared_in_body (plain.closed_trees (forgotten_trees ts)) in
      let somewhere : (one_of names y || declares (declared_in_body (finished_trees ts)) y) ≡ true =
      ap (λ ns. one_of names y || declares ns y) (sym same.0) ∙ (ap (λ c. one_of names y || c) (sym (is_declared-declares closed y)) ∙ (sym (declared-all_pending names closed y) ∙ (known.known.bound y ∙ (tied.bound y ∙ e)))) in
      let all = finished-all w.in_use (look_of p w) ts h.1.0.3 in
      let there = pending-written y q names (finished_trees ts) known.pending (sym same.1 ∙ fits) somewhere in
      let list_is : whole_list q x b (finished_trees ts) ≡ declaration (codes "var") q.vars (declaration (codes "let") q.lets (finished_trees ts)) =
      (λ i. whole_list q (h.1.0.1 i) (h.1.0.2 i) (finished_trees ts)) ∙ list-written w.in_use (look_of p w) q (finished_trees ts) all in
      scope-found w.in_use (look_of p w) l (many (finished_trees ds)) (whole_list q x b (finished_trees ts)) done y (finished-in w.in_use (look_of p w) (asks true Program l) (children ds and (list q x b ts and ends)) h)
      (body-bound y (whole_list q x b (finished_trees ts)) (ap body_of list_is ∙ there.0) (ap (λ us. declares (declared_in_body us) y) list_is ∙ there.1))

  -- each bound name is found from the program's scope
  pub program-found : (fs : OpenFields) → OpenTiedIn w.in_use (look_of p w) (asks true Program l) fs → IsOpenProgram (forgotten_whole p w) (forgotten (open_node Program l fs)) → (y : Text) → is_some (look_of p w y) ≡ true → inner nowhere Program l (role_at reads Program l (finished_fields fs)) (finished_fields fs) y ≡ look_of p w y
  program-found fs h known y e =
      let s = program-shape fs known.known.shaped in
      at fs s h known
    where
      at : (gs : OpenFields) → ProgramShape gs → OpenTiedIn w.in_use (look_of p w) (asks true Program l) gs → IsOpenProgram (forgotten_whole p w) (forgotten (open_node Program l gs)) → inner nowhere Program l (role_at reads Program l (finished_fields gs)) (finished_fields gs) y ≡ look_of p w y
      at gs s k known =
          let ds = s.directives in
          let q = s.pending in
          let goal : OpenFields → Type 0 = λ hs. OpenTiedIn w.in_use (look_of p w) (asks true Program l) hs → IsOpenProgram (forgotten_whole p w) (forgotten (open_node Program l hs)) → inner nowhere Program l (role_at reads Program l (finished_fields hs)) (finished_fields hs) y ≡ look_of p w y in
          subst goal (sym s.whole) (λ a b. by-shape ds q s.this_name s.additions s.statements_of a b s.fits y e) k known
