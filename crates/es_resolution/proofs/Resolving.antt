-- Programs with the symbols of the scope table are resolved.
use Rattle.std.proofs.Common.{arith, ◌≡◌, ◌<◌, ◌≤◌, ℕ, zero, suc, ◌+◌, ◌==◌, refl, sym, ap, subst, ◌∙◌, List}
use Rattle.std.specs.Prelude.{Bool, true, false, not, ◌||◌, ◌&&◌, Option, if◌then◌else◌}
use Rattle.std.proofs.lemmas.Bool.{ne_eqb}
use Rattle.es_tree.specs.Words.{Text}
use Rattle.es_tree.specs.Tree.{Tree, node, Label, Fields, done, ◌then◌, Field, missing, one, many, statements, Trees, empty, ◌before◌, kind_of}
use Rattle.es_tree.specs.declared.ast_type.AstType.{AstType}
use Rattle.es_semantic.specs.RolesOf.{role_at}
use Rattle.es_semantic.specs.ScopesOf.{is_function}
use Rattle.es_semantic.specs.Places.{Place, first, makes_scope, has_name_scope, is_inside, is_hoisted_to, own_scope, own_scope_count, around_in, parameters_in, is_strict_in, place_in, scope_count_in, scope_count_in_field, scope_count_in_fields, scope_count_in_trees, visits, visits_in_fields, visits_in_field, visits_in_trees}
use Rattle.es_semantic.specs.SymbolsOf.{Declared, is_bound, with_node, with_visits}
use Rattle.es_semantic.specs.declared.place.Role.{Role}
use Rattle.es_resolution.specs.Declarations.{has_scope, is_var_scope}
use Rattle.es_resolution.proofs.SymbolTrees.{own_symbols, resolved_tree, resolved_in, resolved_by, resolved_among}
use Rattle.es_resolution.specs.Resolved.{Place as Around, class_frame, frame, bound_by, inner, hoisting, around, place_in as place_at, parameters_in as parameters_at, IsMarked, Resolved, ResolvedIn, ResolvedBy, ResolvedAll}
use Rattle.es_resolution.proofs.Basics.{every}
use Rattle.es_resolution.proofs.Placed.{is_last, Placed, PlacedIn, PlacedBy, PlacedAll}
use Rattle.es_resolution.proofs.Declares.{counts-none, declares, declares_in, declares_by, declares_among}
use Rattle.es_resolution.proofs.Marks.{marked, role-kept}
use Rattle.es_resolution.proofs.Tests.{stay, stay-in}
use Rattle.es_resolution.proofs.Outside.{Fits, fits-more, is_parameter, same-parameter, place, visits-append, node-stay, fits-in}
use Rattle.es_resolution.proofs.OutsideTrees.{places, out-tree, out-in, out-by, out-among}
use Rattle.es_resolution.proofs.Frames.{class_name}
use Rattle.es_resolution.proofs.Nodes.{Agrees, Known, Sees, Body, none-empty, now-in, own-above, first-own, out-true, own-bound, lexical-in, class-marked, frame-names, scope-in, hoisted-in}
use Rattle.es_resolution.proofs.Tests.{or-false}
use Rattle.es_resolution.proofs.Bodies.{own-right, class-kinds, arounds, BodiesIn, SeesIn, sees-later, sees-first, body-in-list, BodyBy, body-first, function-inside, function-makes, function-class, function-frame}

-- THE PARAMETERS OF A FUNCTION

pub parameters-none : (k : AstType) (l : Label) (rs : ℕ → Role) (gs : Fields) (x : Text) → is_function k ≡ false → parameters_at k l rs gs x ≡ false
parameters-none k l rs gs x h = rw h refl

pub parameters-frame : (k : AstType) (l : Label) (rs : ℕ → Role) (gs : Fields) (x : Text) → is_function k ≡ true → parameters_at k l rs gs x ≡ bound_by (frame k l rs gs) x
parameters-frame k l rs gs x h = rw h refl

low-hoist : (n own h : ℕ) (c : Bool) → c ≡ false → h < n → (if c then own else h) < n
low-hoist n own h true e l = absurd (cc e)
low-hoist n own h false e l = l

own-lexical : (a b c d : Bool) → c ≡ false → (a || (b || (c && d))) ≡ (a || b)
own-lexical a b c d e = rw (e, or-false b) refl

-- what is known after some visits
pub known-in : (F ds : List Declared) (p : Place) (P : Around) (ps : Text → Bool) (n : ℕ) (k : AstType) (l : Label) (fs : Fields) → Known F ds p n → (s : ℕ) (x : Text) → n + own_scope_count k fs ≤ s → is_bound (with_node ds p n k l fs) s x ≡ false
known-in F ds p P ps n k l fs h s x e =
    let a : first p.around < n = h.fits.around in
    let b : p.hoist < n = h.fits.hoist in
    node-stay s x ds p n k l fs (λ i. e) (ne_eqb (first p.around) s (λ i. omega arith)) (ne_eqb p.hoist s (λ i. omega arith)) ∙ h.fresh s x (omega arith)

pub known-field : (F ds : List Declared) (k : AstType) (last : Bool) (h : ℕ) (q : Option ℕ) (st : Bool) (r : Role) (a : List ℕ) (n : ℕ) (w : Field) → Fits n h q (first a) → PlacedBy k last w → ((s : ℕ) (x : Text) → n ≤ s → is_bound ds s x ≡ false) → (s : ℕ) (x : Text) → n + scope_count_in_field w ≤ s → is_bound (with_visits ds (visits_in_field (place r a h q st) n w)) s x ≡ false
known-field F ds k last h q st r a n w f d e s x i =
    let low : first a < n = f.around in
    let hoist : h < n = f.hoist in
    out-by s x k last ds (place r a h q st) n w f d (λ j. i) ∙ (stay (is_bound ds s x) (first a == s) (h == s) (declares_by x false r w) (not (is_parameter ds q x) && declares_by x true r w) (ne_eqb (first a) s (λ j. omega arith)) (ne_eqb h s (λ j. omega arith)) ∙ e s x (omega arith))

pub same-field : (ds : List Declared) (x : Text) (k : AstType) (last : Bool) (h : ℕ) (q : Option ℕ) (st : Bool) (r : Role) (a : List ℕ) (n : ℕ) (w : Field) → Fits n h q (first a) → PlacedBy k last w → is_parameter (with_visits ds (visits_in_field (place r a h q st) n w)) q x ≡ is_parameter ds q x
same-field ds x k last h q st r a n w f d =
    same-parameter ds (with_visits ds (visits_in_field (place r a h q st) n w)) x n h (first a) q f.parameters (λ m e g j. out-by m x k last ds (place r a h q st) n w f d (λ i. omega arith) ∙ stay (is_bound ds m x) (first a == m) (h == m) (declares_by x false r w) (not (is_parameter ds q x) && declares_by x true r w) g j)

-- later fields leave the scopes of a field as they are
pub agrees-first : (F ds : List Declared) (k : AstType) (h : ℕ) (q : Option ℕ) (st : Bool) (R : ℕ → Role) (A : ℕ → List ℕ) (n n0 : ℕ) (w : Field) (fs : Fields) → n0 ≤ n → ((i : ℕ) → Fits n h q (first (A i))) → PlacedIn k (w then fs) →
    Agrees n0 (n + scope_count_in_fields (w then fs)) F (with_visits ds (visits_in_fields (places R A h q st) n (w then fs))) → Agrees n (n + scope_count_in_field w) F (with_visits ds (visits_in_field (places R A h q st zero) n w))
agrees-first F ds k h q st R A n n0 w fs low f d a s x e i =
    let es = with_visits ds (visits_in_field (places R A h q st zero) n w) in
    let here : h < n = (f zero).hoist in
    a s x (omega arith) (omega arith)
    ∙ (ap (λ gs. is_bound gs s x) (visits-append ds (visits_in_field (places R A h q st zero) n w) (visits_in_fields (λ i. places R A h q st (suc i)) (n + scope_count_in_field w) fs))
    ∙ (out-in s x k es h q st (λ i. R (suc i)) (λ i. A (suc i)) (n + scope_count_in_field w) fs (λ j. fits-more n (n + scope_count_in_field w) h (first (A (suc j))) q (omega arith) (f (suc j))) d.1 (λ j. omega arith)
    ∙ stay-in (is_bound es s x) (declares_in x false (λ j. first (A (suc j)) == s) (λ j. R (suc j)) fs) (h == s) (not (is_parameter es q x) && declares_in x true every (λ j. R (suc j)) fs)
    (counts-none x false (λ j. first (A (suc j)) == s) (λ j. R (suc j)) fs (λ j. ne_eqb (first (A (suc j))) s (λ m. let there : first (A (suc j)) < n = (f (suc j)).around in omega arith))) (ne_eqb h s (λ j. omega arith))))

pub agrees-later : (F ds : List Declared) (h : ℕ) (q : Option ℕ) (st : Bool) (R : ℕ → Role) (A : ℕ → List ℕ) (n n0 : ℕ) (w : Field) (fs : Fields) → Agrees n0 (n + scope_count_in_fields (w then fs)) F (with_visits ds (visits_in_fields (places R A h q st) n (w then fs))) →
    Agrees n0 ((n + scope_count_in_field w) + scope_count_in_fields fs) F (with_visits (with_visits ds (visits_in_field (places R A h q st zero) n w)) (visits_in_fields (λ i. places R A h q st (suc i)) (n + scope_count_in_field w) fs))
agrees-later F ds h q st R A n n0 w fs a s x e d =
    a s x e (omega arith) ∙ ap (λ gs. is_bound gs s x) (visits-append ds (visits_in_field (places R A h q st zero) n w) (visits_in_fields (λ i. places R A h q st (suc i)) (n + scope_count_in_field w) fs))

-- WHAT THE FIELDS OF A NODE SEE

pub bodies-in : (F : List Declared) (above : AstType) (last : Bool) (ds : List Declared) (p : Place) (P : Around) (ps : Text → Bool) (n : ℕ) (k : AstType) (l : Label) (fs : Fields) (known : Known F ds p n) (placed : Placed above last (node k l fs)) (body : Body F ds p P ps k)
    (agrees : Agrees n (n + scope_count_in (node k l fs)) F (with_visits ds (visits p n (node k l fs)))) →
    BodiesIn F n k (if is_hoisted_to k then own_scope n k fs else p.hoist) (around_in p.around n k fs)
    (parameters_at k (marked l (own_symbols F p n k l fs)) (role_at p.role k l fs) (resolved_in F (place_in p n k l fs) (n + own_scope_count k fs) fs)) (parameters_at k l (role_at p.role k l fs) fs) fs
bodies-in F above last ds p P ps n k l fs known placed body agrees =
    let rs = role_at p.role k l fs in
    let gs = resolved_in F (place_in p n k l fs) (n + own_scope_count k fs) fs in
    let lbl = marked l (own_symbols F p n k l fs) in
    record {
      others = λ c x. parameters-none k lbl rs gs x c;
      bodies = λ c i t e d.
          let makes = function-makes k c in
          let a : first (around_in p.around n k fs i) ≡ own_scope n k fs = first-own p.around n k fs i makes.0 (function-inside k fs i t c placed.1 e d) in
          let names : (x : Text) → (class_name x k fs || declares_in x false (is_inside k) rs fs) ≡ is_bound F (first (around_in p.around n k fs i)) x = λ x.
          sym (own-lexical (class_name x k fs) (declares_in x false (is_inside k) rs fs) (is_hoisted_to k) (not (is_parameter F (parameters_in p k) x) && declares_in x true every rs fs) makes.1) ∙ (sym (own-bound F above last ds p P ps n k l fs known placed body agrees makes.0 x) ∙ ap (λ s. is_bound F s x) (sym a)) in (
            subst (λ s. n ≤ s) (sym a) (own-above n (has_name_scope k fs)),
            (
              low-hoist n (own_scope n k fs) p.hoist (is_hoisted_to k) makes.1 known.fits.hoist,
              λ x. (
                parameters-frame k lbl rs gs x c ∙ (frame-names F above last ds p P ps n k l fs known placed body agrees makes.0 x ∙ names x),
                parameters-frame k l rs fs x c ∙ (function-frame x k l p.role fs placed.2 c ∙ (ap (λ b. b || declares_in x false (is_inside k) rs fs) (sym (function-class x k fs c)) ∙ names x)),
              ),
            ),
          );
    }

sees-in : (F : List Declared) (above : AstType) (last : Bool) (ds : List Declared) (p : Place) (P : Around) (ps : Text → Bool) (n : ℕ) (k : AstType) (l : Label) (fs : Fields) (known : Known F ds p n) (placed : Placed above last (node k l fs)) (body : Body F ds p P ps k)
    (agrees : Agrees n (n + scope_count_in (node k l fs)) F (with_visits ds (visits p n (node k l fs)))) → Sees F p P (λ x. declares x false p.role (node k l fs)) (λ x. declares x true p.role (node k l fs)) →
    SeesIn F n k (if is_hoisted_to k then own_scope n k fs else p.hoist) (parameters_in p k) (role_at p.role k l fs) (around_in p.around n k fs)
    (λ i. if has_scope k && is_inside k i then inner P k (marked l (own_symbols F p n k l fs)) (role_at p.role k l fs) (resolved_in F (place_in p n k l fs) (n + own_scope_count k fs) fs) else around P k (role_at p.role k l fs) (resolved_in F (place_in p n k l fs) (n + own_scope_count k fs) fs))
    (if is_var_scope k then hoisting P k (marked l (own_symbols F p n k l fs)) (role_at p.role k l fs) (resolved_in F (place_in p n k l fs) (n + own_scope_count k fs) fs) else P.hoist)
    (parameters_at k (marked l (own_symbols F p n k l fs)) (role_at p.role k l fs) (resolved_in F (place_in p n k l fs) (n + own_scope_count k fs) fs)) (parameters_at k l (role_at p.role k l fs) fs) fs
sees-in F above last ds p P ps n k l fs known placed body agrees sees =
    let rs = role_at p.role k l fs in
    let gs = resolved_in F (place_in p n k l fs) (n + own_scope_count k fs) fs in
    let lbl = marked l (own_symbols F p n k l fs) in
    record {
      some = λ i. none-empty p.around n (has_name_scope k fs) (makes_scope k && is_inside k i) (own_scope n k fs) sees.some;
      scope = scope-in F above last ds p P ps n k l fs known placed body agrees sees.scope;
      lexical = lexical-in F above last ds p P ps n k l fs known placed body agrees sees.lexical;
      hoisted = hoisted-in F above last ds p P ps n k l fs known placed body agrees sees;
      below = bodies-in F above last ds p P ps n k l fs known placed body agrees;
    }

pub in-list : (F ds : List Declared) (p : Place) (P : Around) (ps : Text → Bool) (k : AstType) (t : Tree) → Placed k false t → (is_function k ≡ false → (x : Text) → P.parameters x ≡ false) → Body F ds p P ps (kind_of t)
in-list F ds p P ps k (node j l fs) d others = body-in-list F ds p P ps k j d.0 others

-- a tree, and those that follow it in a list
pub trees-known : (F : List Declared) (k : AstType) (ds : List Declared) (p : Place) (n : ℕ) (t : Tree) (ts : Trees) → Known F ds p n → PlacedAll k (t before ts) → Agrees n (n + scope_count_in_trees (t before ts)) F (with_visits ds (visits_in_trees p n (t before ts))) →
    Agrees n (n + scope_count_in t) F (with_visits ds (visits p n t)) × (Known F (with_visits ds (visits p n t)) p (n + scope_count_in t) × Agrees (n + scope_count_in t) ((n + scope_count_in t) + scope_count_in_trees ts) F (with_visits (with_visits ds (visits p n t)) (visits_in_trees p (n + scope_count_in t) ts)))
trees-known F k ds p n t ts known d a =
    let es = with_visits ds (visits p n t) in
    let low : first p.around < n = known.fits.around in
    let hoist : p.hoist < n = known.fits.hoist in
    let rest : (s : ℕ) (x : Text) → is_bound (with_visits ds (visits_in_trees p n (t before ts))) s x ≡ is_bound (with_visits es (visits_in_trees p (n + scope_count_in t) ts)) s x = λ s x. ap (λ gs. is_bound gs s x) (visits-append ds (visits p n t) (visits_in_trees p (n + scope_count_in t) ts)) in
    let more : Fits (n + scope_count_in t) p.hoist p.parameters (first p.around) = fits-more n (n + scope_count_in t) p.hoist (first p.around) p.parameters (omega arith) known.fits in (
      (λ s x j m. a s x j (omega arith) ∙ (rest s x ∙ (out-among s x k es p (n + scope_count_in t) ts more d.1 (λ o. omega arith) ∙ stay (is_bound es s x) (first p.around == s) (p.hoist == s) (declares_among x false p.role ts) (not (is_parameter es p.parameters x) && declares_among x true p.role ts) (ne_eqb (first p.around) s (λ o. omega arith)) (ne_eqb p.hoist s (λ o. omega arith))))),
      (
        record {
          fits = more;
          fresh = λ s x j. out-tree s x k false ds p n t known.fits d.0 (λ o. j) ∙ (stay (is_bound ds s x) (first p.around == s) (p.hoist == s) (declares x false p.role t) (not (is_parameter ds p.parameters x) && declares x true p.role t) (ne_eqb (first p.around) s (λ o. omega arith)) (ne_eqb p.hoist s (λ o. omega arith)) ∙ known.fresh s x (omega arith));
          now = λ x. same-parameter ds es x n p.hoist (first p.around) p.parameters known.fits.parameters (λ m j g i. out-tree m x k false ds p n t known.fits d.0 (λ o. omega arith) ∙ stay (is_bound ds m x) (first p.around == m) (p.hoist == m) (declares x false p.role t) (not (is_parameter ds p.parameters x) && declares x true p.role t) g i) ∙ known.now x;
        },
        λ s x j m. a s x (omega arith) (omega arith) ∙ rest s x,
      ),
    )

-- TREES

mutual
  pub in-tree : (F : List Declared) (above : AstType) (last : Bool) (ds : List Declared) (p : Place) (P : Around) (ps : Text → Bool) (n : ℕ) (t : Tree) → Known F ds p n → Placed above last t →
      Agrees n (n + scope_count_in t) F (with_visits ds (visits p n t)) → Sees F p P (λ x. declares x false p.role t) (λ x. declares x true p.role t) → Body F ds p P ps (kind_of t) → Resolved p.role P (resolved_tree F p n t)
  in-tree F above last ds p P ps n (node k l fs) known placed agrees sees body =
      let rs = role_at p.role k l fs in
      let gs = resolved_in F (place_in p n k l fs) (n + own_scope_count k fs) fs in
      let lbl = marked l (own_symbols F p n k l fs) in
      let es = with_node ds p n k l fs in
      let fields : ResolvedIn rs (place_at P k lbl rs gs) gs =
      in-fields F n k es (if is_hoisted_to k then own_scope n k fs else p.hoist) (parameters_in p k) (is_strict_in p k l fs) rs (around_in p.around n k fs)
      (λ i. if has_scope k && is_inside k i then inner P k lbl rs gs else around P k rs gs) (if is_var_scope k then hoisting P k lbl rs gs else P.hoist) (parameters_at k lbl rs gs) (parameters_at k l rs fs) (n + own_scope_count k fs) fs
      (omega arith) (λ i. fits-in p n k fs i known.fits) (known-in F ds p P ps n k l fs known) (now-in F ds p P ps n k l fs known body) placed.2 (λ s x e d. agrees s x e (omega arith))
      (sees-in F above last ds p P ps n k l fs known placed body agrees sees) in
      let marks : IsMarked (class_frame k lbl rs gs) = class-kinds k lbl rs gs (class-marked F above last ds p P ps n k l fs known placed body agrees) in (
        own-right F p P n k l fs sees,
        subst (λ (r : ℕ → Role). IsMarked (class_frame k lbl r gs)) (sym (role-kept F (place_in p n k l fs) (n + own_scope_count k fs) p.role k l (own_symbols F p n k l fs) fs)) marks,
        subst (λ (r : ℕ → Role). ResolvedIn r (place_at P k lbl r gs) gs) (sym (role-kept F (place_in p n k l fs) (n + own_scope_count k fs) p.role k l (own_symbols F p n k l fs) fs)) fields,
      )

  pub in-fields : (F : List Declared) (n0 : ℕ) (k : AstType) (ds : List Declared) (h : ℕ) (q : Option ℕ) (st : Bool) (R : ℕ → Role) (A : ℕ → List ℕ) (S : ℕ → Text → Option ℕ) (H : Text → Option ℕ) (Q ps : Text → Bool) (n : ℕ) (fs : Fields) →
      n0 ≤ n → ((i : ℕ) → Fits n h q (first (A i))) → ((s : ℕ) (x : Text) → n ≤ s → is_bound ds s x ≡ false) → ((x : Text) → is_parameter ds q x ≡ is_parameter F q x) → PlacedIn k fs →
      Agrees n0 (n + scope_count_in_fields fs) F (with_visits ds (visits_in_fields (places R A h q st) n fs)) → SeesIn F n0 k h q R A S H Q ps fs → ResolvedIn R (arounds S H Q) (resolved_in F (places R A h q st) n fs)
  in-fields F n0 k ds h q st R A S H Q ps n done low f fresh now d a e = tt
  in-fields F n0 k ds h q st R A S H Q ps n (w then fs) low f fresh now d a e =
      let es = with_visits ds (visits_in_field (places R A h q st zero) n w) in (
        in-field F k (is_last fs) ds (places R A h q st zero) (arounds S H Q zero) ps n w (record { fits = f zero; fresh = fresh; now = now }) d.0 (agrees-first F ds k h q st R A n n0 w fs low f d a)
            (sees-first F n0 k h q st R A S H Q ps w fs e) e.below.others (body-first F ds n0 k h q st R A S H Q ps n w fs f d a e.below),
        in-fields F n0 k es h q st (λ i. R (suc i)) (λ i. A (suc i)) (λ i. S (suc i)) H Q ps (n + scope_count_in_field w) fs (omega arith) (λ i. fits-more n (n + scope_count_in_field w) h (first (A (suc i))) q (omega arith) (f (suc i)))
            (known-field F ds k (is_last fs) h q st (R zero) (A zero) n w (f zero) d.0 fresh) (λ x. same-field ds x k (is_last fs) h q st (R zero) (A zero) n w (f zero) d.0 ∙ now x) d.1 (agrees-later F ds h q st R A n n0 w fs a) (sees-later F n0 k h q R A S H Q ps w fs e),
      )

  in-field : (F : List Declared) (k : AstType) (last : Bool) (ds : List Declared) (p : Place) (P : Around) (ps : Text → Bool) (n : ℕ) (w : Field) → Known F ds p n → PlacedBy k last w →
      Agrees n (n + scope_count_in_field w) F (with_visits ds (visits_in_field p n w)) → Sees F p P (λ x. declares_by x false p.role w) (λ x. declares_by x true p.role w) → (is_function k ≡ false → (x : Text) → P.parameters x ≡ false) → BodyBy F ds p P ps w → ResolvedBy p.role P (resolved_by F p n w)
  in-field F k last ds p P ps n missing known d a e others body = tt
  in-field F k last ds p P ps n (one t) known d a e others body = in-tree F k last ds p P ps n t known d a e body
  in-field F k last ds p P ps n (many ts) known d a e others body = in-trees F k ds p P ps n ts known d a e others
  in-field F k last ds p P ps n (statements ts) known d a e others body = in-trees F k ds p P ps n ts known d a e others

  in-trees : (F : List Declared) (k : AstType) (ds : List Declared) (p : Place) (P : Around) (ps : Text → Bool) (n : ℕ) (ts : Trees) → Known F ds p n → PlacedAll k ts →
      Agrees n (n + scope_count_in_trees ts) F (with_visits ds (visits_in_trees p n ts)) → Sees F p P (λ x. declares_among x false p.role ts) (λ x. declares_among x true p.role ts) → (is_function k ≡ false → (x : Text) → P.parameters x ≡ false) → ResolvedAll p.role P (resolved_among F p n ts)
  in-trees F k ds p P ps n empty known d a e others = tt
  in-trees F k ds p P ps n (t before ts) known d a e others =
      let both = trees-known F k ds p n t ts known d a in (
        in-tree F k false ds p P ps n t known d.0 both.0 (record { some = e.some; scope = e.scope; lexical = λ x j. e.lexical x (rw j refl); hoisted = λ x j. e.hoisted x (rw j refl) }) (in-list F ds p P ps k t d.0 others),
        in-trees F k (with_visits ds (visits p n t)) p P ps (n + scope_count_in t) ts both.1.0 d.1 both.1.1
            (record { some = e.some; scope = e.scope; lexical = λ x j. e.lexical x (out-true (declares x false p.role t) (declares_among x false p.role ts) k j); hoisted = λ x j. e.hoisted x (out-true (declares x true p.role t) (declares_among x true p.role ts) k j) }) others,
      )
