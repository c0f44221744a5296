-- The visits of a tree add to a scope outside it what the tree declares there: by `var` to the hoisting scope, otherwise to
-- the first scope around.
use Rattle.std.proofs.Common.{arith, ◌≡◌, ◌≤◌, ℕ, zero, suc, ◌+◌, ◌==◌, refl, sym, ap, ◌∙◌, List, ◌∷◌}
use Rattle.std.specs.Prelude.{Bool, true, false, not, ◌||◌, ◌&&◌, Option, Some, None, if◌then◌else◌}
use Rattle.std.proofs.lemmas.Bool.{ne_eqb}
use Rattle.es_tree.specs.Words.{Text}
use Rattle.es_tree.specs.Tree.{Tree, node, Fields, done, ◌then◌, Field, missing, one, many, statements, Trees, empty, ◌before◌}
use Rattle.es_tree.specs.declared.ast_type.AstType.{AstType}
use Rattle.es_tree.specs.declared.ast_type.AstType.TheVariants.{Program, FunctionExpression, FunctionBody, StaticBlock}
use Rattle.es_semantic.specs.RolesOf.{role_at}
use Rattle.es_semantic.specs.Places.{Place, first, makes_scope, is_inside, is_hoisted_to, own_scope, own_scope_count, around_in, parameters_in, is_strict_in, scope_count_in, scope_count_in_field, scope_count_in_fields, scope_count_in_trees, visits, visits_in_fields, visits_in_field, visits_in_trees}
use Rattle.es_semantic.specs.SymbolsOf.{Declared, is_bound, with_node, with_visits}
use Rattle.es_semantic.specs.declared.place.Role.{Role}
use Rattle.es_resolution.proofs.Declares.{goes_out}
use Rattle.es_resolution.proofs.Basics.{every}
use Rattle.es_resolution.proofs.Placed.{is_name_first, name_fits, is_last, Placed, PlacedIn, PlacedBy, PlacedAll}
use Rattle.es_resolution.proofs.Declares.{counts-none, own_declares, declares, declares_in, declares_by, declares_among}
use Rattle.es_resolution.proofs.Tests.{and-false, and-true, none-more, stay, mix, mix-all}
use Rattle.es_resolution.proofs.Placed.{kind_fits}
use Rattle.es_resolution.proofs.Outside.{Outside, Fits, fits-more, is_parameter, same-parameter, place, visits-append, with_own, own-node, node-parameter, fits-in}

-- COUNTS

pub counts-and : (x : Text) (v : Bool) (c : Bool) (counts : ℕ → Bool) (roles : ℕ → Role) (fs : Fields) → declares_in x v (λ i. c && counts i) roles fs ≡ (c && declares_in x v counts roles fs)
counts-and x v true counts roles fs = refl
counts-and x v false counts roles fs = counts-none x v (λ i. false) roles fs (λ i. refl)

pub counts-same : (x : Text) (v : Bool) (c d : ℕ → Bool) (roles : ℕ → Role) (fs : Fields) → ((i : ℕ) → c i ≡ d i) → declares_in x v c roles fs ≡ declares_in x v d roles fs
counts-same x v c d roles fs e = ap (λ (g : ℕ → Bool). declares_in x v g roles fs) (λ j i. e i j)

count-out : (s : ℕ) (up : List ℕ) (n : ℕ) (makes inside : Bool) → Outside n (n + (if makes then 1 else 0)) s → (first (if makes && inside then n ∷ up else up) == s) ≡ (first up == s && not (makes && inside))
count-out s up n true true o = ne_eqb n s (λ e. omega arith) ∙ sym (and-false (first up == s))
count-out s up n true false o = sym (and-true (first up == s))
count-out s up n false inside o = sym (and-true (first up == s))

expression-out : (s : ℕ) (x : Text) (up : List ℕ) (n : ℕ) (roles : ℕ → Role) (fs : Fields) → is_name_first fs ≡ true → Outside n (n + own_scope_count FunctionExpression fs) s → declares_in x false (λ i. first (around_in up n FunctionExpression fs i) == s) roles fs ≡ (first up == s && declares_in x false (goes_out false FunctionExpression) roles fs)
expression-out s x up n roles (missing then fs) h o =
    let none : (g : ℕ → Bool) → ((i : ℕ) → g (suc i) ≡ false) → declares_in x false g roles (missing then fs) ≡ false = λ g e. rw (and-false (g zero)) (counts-none x false (λ i. g (suc i)) (λ i. roles (suc i)) fs e) in
    none (λ i. first (around_in up n FunctionExpression (missing then fs) i) == s) (λ i. ne_eqb n s (λ e. omega arith)) ∙ (sym (and-false (first up == s)) ∙ ap (λ b. first up == s && b) (sym (none (goes_out false FunctionExpression) (λ i. refl))))
expression-out s x up n roles (one t then fs) h o =
    counts-none x false (λ i. first (around_in up n FunctionExpression (one t then fs) i) == s) roles (one t then fs) at ∙ (sym (and-false (first up == s)) ∙ ap (λ b. first up == s && b) (sym (counts-none x false (goes_out false FunctionExpression) roles (one t then fs) (λ i. refl))))
  where
    at : (i : ℕ) → (first (around_in up n FunctionExpression (one t then fs) i) == s) ≡ false
    at zero = ne_eqb n s (λ e. omega arith)
    at (suc i) = ne_eqb (suc n) s (λ e. omega arith)
expression-out s x up n roles done h o = absurd (cc h)
expression-out s x up n roles (many ts then fs) h o = absurd (cc h)
expression-out s x up n roles (statements ts then fs) h o = absurd (cc h)

pub lexical-out : (s : ℕ) (x : Text) (above : AstType) (last : Bool) (up : List ℕ) (n : ℕ) (k : AstType) (roles : ℕ → Role) (fs : Fields) → kind_fits above last k ≡ true → name_fits k fs ≡ true → Outside n (n + own_scope_count k fs) s →
    declares_in x false (λ i. first (around_in up n k fs i) == s) roles fs ≡ (first up == s && declares_in x false (goes_out false k) roles fs)
lexical-out s x above last up n Program roles fs h d o = absurd (cc h)
lexical-out s x above last up n FunctionExpression roles fs h d o = expression-out s x up n roles fs d o
lexical-out s x above last up n k roles fs h d o =
    counts-same x false (λ i. first (around_in up n k fs i) == s) (λ i. first up == s && goes_out false k i) roles fs (λ i. count-out s up n (makes_scope k) (is_inside k i) o) ∙ counts-and x false (first up == s) (goes_out false k) roles fs

body-out : (s : ℕ) (x : Text) (n : ℕ) (roles : ℕ → Role) (fs : Fields) (b c d : Bool) → Outside n (n + 1) s → (n == s && b) ≡ (c && (d && declares_in x true (λ i. false) roles fs))
body-out s x n roles fs b c d o = ap (λ g. g && b) (ne_eqb n s (λ e. omega arith)) ∙ (sym (and-false c) ∙ ap (λ g. c && g) (sym (and-false d) ∙ ap (λ g. d && g) (sym (counts-none x true (λ i. false) roles fs (λ i. refl)))))

hoisted-out : (s : ℕ) (x : Text) (above : AstType) (last : Bool) (ds es : List Declared) (p : Place) (n : ℕ) (k : AstType) (roles : ℕ → Role) (fs : Fields) → kind_fits above last k ≡ true → Outside n (n + own_scope_count k fs) s → is_parameter es p.parameters x ≡ is_parameter ds p.parameters x →
    ((if is_hoisted_to k then own_scope n k fs else p.hoist) == s && (not (is_parameter es (parameters_in p k) x) && declares_in x true every roles fs)) ≡ (p.hoist == s && (not (is_parameter ds p.parameters x) && declares_in x true (goes_out true k) roles fs))
hoisted-out s x above last ds es p n Program roles fs h o e = absurd (cc h)
hoisted-out s x above last ds es p n FunctionBody roles fs h o e = body-out s x n roles fs (not (is_parameter es (Some (first p.around)) x) && declares_in x true every roles fs) (p.hoist == s) (not (is_parameter ds p.parameters x)) o
hoisted-out s x above last ds es p n StaticBlock roles fs h o e = body-out s x n roles fs (not (is_parameter es None x) && declares_in x true every roles fs) (p.hoist == s) (not (is_parameter ds p.parameters x)) o
hoisted-out s x above last ds es p n k roles fs h o e = ap (λ c. p.hoist == s && (not c && declares_in x true every roles fs)) e

-- TREES

abbrev pub places : (ℕ → Role) → (ℕ → List ℕ) → ℕ → Option ℕ → Bool → ℕ → Place
places R A h q st i = place (R i) (A i) h q st

-- with a list of declarations more
abbrev pub with_in : ℕ → Text → List Declared → ℕ → Option ℕ → (ℕ → Role) → (ℕ → List ℕ) → Fields → Bool
with_in s x ds h q R A fs = is_bound ds s x || (declares_in x false (λ i. first (A i) == s) R fs || (h == s && (not (is_parameter ds q x) && declares_in x true every R fs)))

mutual
  pub out-tree : (s : ℕ) (x : Text) (above : AstType) (last : Bool) (ds : List Declared) (p : Place) (n : ℕ) (t : Tree) → Fits n p.hoist p.parameters (first p.around) → Placed above last t → Outside n (n + scope_count_in t) s →
      is_bound (with_visits ds (visits p n t)) s x ≡ with_own (is_bound ds s x) (first p.around == s) (p.hoist == s) (not (is_parameter ds p.parameters x)) (declares x false p.role t) (declares x true p.role t)
  out-tree s x above last ds p n (node k l fs) f h o =
      let es = with_node ds p n k l fs in
      let roles = role_at p.role k l fs in
      let own : Outside n (n + own_scope_count k fs) s = λ i. (let d : n + (own_scope_count k fs + scope_count_in_fields fs) ≤ s = o i in omega arith) in
      let inner : Outside (n + own_scope_count k fs) ((n + own_scope_count k fs) + scope_count_in_fields fs) s = λ i. (let d : n + (own_scope_count k fs + scope_count_in_fields fs) ≤ s = o (omega arith) in omega arith) in
      let a = out-in s x k es (if is_hoisted_to k then own_scope n k fs else p.hoist) (parameters_in p k) (is_strict_in p k l fs) roles (around_in p.around n k fs) (n + own_scope_count k fs) fs (λ i. fits-in p n k fs i f) h.2 inner in
      a ∙ ((λ i. own-node s x ds p n k l fs own i || (lexical-out s x above last p.around n k roles fs h.0 h.1 own i || hoisted-out s x above last ds es p n k roles fs h.0 own (node-parameter x ds p n k l fs f) i))
      ∙ mix-all (is_bound ds s x) (first p.around == s) (p.hoist == s) (not (is_parameter ds p.parameters x)) (own_declares x true p.role k l) (declares_in x true (goes_out true k) roles fs) (own_declares x false p.role k l) (declares_in x false (goes_out false k) roles fs))

  pub out-in : (s : ℕ) (x : Text) (k : AstType) (ds : List Declared) (h : ℕ) (q : Option ℕ) (st : Bool) (R : ℕ → Role) (A : ℕ → List ℕ) (n : ℕ) (fs : Fields) → ((i : ℕ) → Fits n h q (first (A i))) → PlacedIn k fs → Outside n (n + scope_count_in_fields fs) s →
      is_bound (with_visits ds (visits_in_fields (places R A h q st) n fs)) s x ≡ with_in s x ds h q R A fs
  out-in s x k ds h q st R A n done f d o = none-more (is_bound ds s x) false (h == s) (not (is_parameter ds q x))
  out-in s x k ds h q st R A n (w then fs) f d o =
      let es = with_visits ds (visits_in_field (places R A h q st zero) n w) in
      let mine : Outside n (n + scope_count_in_field w) s = λ i. (let e : n + (scope_count_in_field w + scope_count_in_fields fs) ≤ s = o i in omega arith) in
      let rest : Outside (n + scope_count_in_field w) ((n + scope_count_in_field w) + scope_count_in_fields fs) s = λ i. (let e : n + (scope_count_in_field w + scope_count_in_fields fs) ≤ s = o (omega arith) in omega arith) in
      let same : is_parameter es q x ≡ is_parameter ds q x = same-parameter ds es x n h (first (A zero)) q (f zero).parameters (λ m e g j. out-by m x k (is_last fs) ds (places R A h q st zero) n w (f zero) d.0 (λ i. omega arith) ∙ stay (is_bound ds m x) (first (A zero) == m) (h == m) (declares_by x false (R zero) w) (not (is_parameter ds q x) && declares_by x true (R zero) w) g j) in
      ap (λ gs. is_bound gs s x) (visits-append ds (visits_in_field (places R A h q st zero) n w) (visits_in_fields (λ i. places R A h q st (suc i)) (n + scope_count_in_field w) fs))
      ∙ (out-in s x k es h q st (λ i. R (suc i)) (λ i. A (suc i)) (n + scope_count_in_field w) fs (λ i. fits-more n (n + scope_count_in_field w) h (first (A (suc i))) q (omega arith) (f (suc i))) d.1 rest
      ∙ ((λ i. out-by s x k (is_last fs) ds (places R A h q st zero) n w (f zero) d.0 mine i || (declares_in x false (λ j. first (A (suc j)) == s) (λ j. R (suc j)) fs || (h == s && (not (same i) && declares_in x true every (λ j. R (suc j)) fs))))
      ∙ mix (is_bound ds s x) (first (A zero) == s && declares_by x false (R zero) w) (declares_in x false (λ j. first (A (suc j)) == s) (λ j. R (suc j)) fs) (h == s) (not (is_parameter ds q x)) (declares_by x true (R zero) w) (declares_in x true every (λ j. R (suc j)) fs)))

  pub out-by : (s : ℕ) (x : Text) (k : AstType) (last : Bool) (ds : List Declared) (p : Place) (n : ℕ) (w : Field) → Fits n p.hoist p.parameters (first p.around) → PlacedBy k last w → Outside n (n + scope_count_in_field w) s →
      is_bound (with_visits ds (visits_in_field p n w)) s x ≡ with_own (is_bound ds s x) (first p.around == s) (p.hoist == s) (not (is_parameter ds p.parameters x)) (declares_by x false p.role w) (declares_by x true p.role w)
  out-by s x k last ds p n missing f d o = none-more (is_bound ds s x) (first p.around == s) (p.hoist == s) (not (is_parameter ds p.parameters x))
  out-by s x k last ds p n (one t) f d o = out-tree s x k last ds p n t f d o
  out-by s x k last ds p n (many ts) f d o = out-among s x k ds p n ts f d o
  out-by s x k last ds p n (statements ts) f d o = out-among s x k ds p n ts f d o

  pub out-among : (s : ℕ) (x : Text) (k : AstType) (ds : List Declared) (p : Place) (n : ℕ) (ts : Trees) → Fits n p.hoist p.parameters (first p.around) → PlacedAll k ts → Outside n (n + scope_count_in_trees ts) s →
      is_bound (with_visits ds (visits_in_trees p n ts)) s x ≡ with_own (is_bound ds s x) (first p.around == s) (p.hoist == s) (not (is_parameter ds p.parameters x)) (declares_among x false p.role ts) (declares_among x true p.role ts)
  out-among s x k ds p n empty f d o = none-more (is_bound ds s x) (first p.around == s) (p.hoist == s) (not (is_parameter ds p.parameters x))
  out-among s x k ds p n (t before ts) f d o =
      let es = with_visits ds (visits p n t) in
      let mine : Outside n (n + scope_count_in t) s = λ i. (let e : n + (scope_count_in t + scope_count_in_trees ts) ≤ s = o i in omega arith) in
      let rest : Outside (n + scope_count_in t) ((n + scope_count_in t) + scope_count_in_trees ts) s = λ i. (let e : n + (scope_count_in t + scope_count_in_trees ts) ≤ s = o (omega arith) in omega arith) in
      let same : is_parameter es p.parameters x ≡ is_parameter ds p.parameters x = same-parameter ds es x n p.hoist (first p.around) p.parameters f.parameters (λ m e g j. out-tree m x k false ds p n t f d.0 (λ i. omega arith) ∙ stay (is_bound ds m x) (first p.around == m) (p.hoist == m) (declares x false p.role t) (not (is_parameter ds p.parameters x) && declares x true p.role t) g j) in
      ap (λ gs. is_bound gs s x) (visits-append ds (visits p n t) (visits_in_trees p (n + scope_count_in t) ts))
      ∙ (out-among s x k es p (n + scope_count_in t) ts (fits-more n (n + scope_count_in t) p.hoist (first p.around) p.parameters (omega arith) f) d.1 rest
      ∙ ((λ i. out-tree s x k false ds p n t f d.0 mine i || ((first p.around == s && declares_among x false p.role ts) || (p.hoist == s && (not (same i) && declares_among x true p.role ts))))
      ∙ mix-all (is_bound ds s x) (first p.around == s) (p.hoist == s) (not (is_parameter ds p.parameters x)) (declares x true p.role t) (declares_among x true p.role ts) (declares x false p.role t) (declares_among x false p.role ts)))
