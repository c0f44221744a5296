-- In a program that breaks no static rule no body declares a name by `var`, or as a function at its top, that it declares otherwise.
use Rattle.std.proofs.Common.{◌≡◌, ℕ, suc, refl, sym, subst, ◌∙◌, List, [], ◌∷◌, ◌++◌}
use Rattle.std.specs.Prelude.{Bool, true, false, not, ◌&&◌, ◌||◌, Some, bytes_eq, is_some, if◌then◌else◌}
use Rattle.std.specs.List.{list_all}
use Rattle.es_tree.specs.Ancestors.{Ancestor, Visit, scopes, visits}
use Rattle.es_tree.specs.DeclaredNames.{Name, declared as names_of}
use Rattle.es_tree.specs.HasForm.{has_form}
use Rattle.es_tree.specs.StaticRules.{breaks}
use Rattle.es_tree.specs.Tree.{Tree, node, Label, Fields, done, ◌then◌, Field, missing, one, many, statements, Trees, empty, ◌before◌, kind_of, fields_of}
use Rattle.es_tree.specs.Words.{Text}
use Rattle.es_tree.specs.declared.ast_type.AstType.{AstType}
use Rattle.es_tree.specs.declared.ast_type.AstType.TheVariants.{ArrowFunctionExpression, FunctionBody, FunctionDeclaration, FunctionExpression, StaticBlock}
use Rattle.es_tree.specs.declared.table.Sort.TheVariants.{Program as s-Program}
use Rattle.es_semantic.specs.declared.place.Role.TheVariants.{Top}
use Rattle.es_semantic.proofs.FormEdges.{EdgesAll, EdgesBy, EdgesIn, edges-inside, is_last}
use Rattle.es_resolution.specs.Declarations.{Bound, declared_among, sought}
use Rattle.es_resolution.specs.Resolved.{bound_by}
use Rattle.es_resolution.proofs.AllForms.{All, AllAmong, AllBy, AllIn, all-tree}
use Rattle.es_resolution.proofs.Basics.{bytes_eq-equal}
use Rattle.es_steps.specs.ParameterPatterns.{body_fields}
use Rattle.es_steps.specs.Patterns.{no_name_of}
use Rattle.es_steps.specs.UsingBodies.{arrow_fields, body, function_fields}
use Rattle.es_valid_names.proofs.BareNames.{law_declared_among_proof}
use Rattle.es_valid_names.proofs.Claims.{AllUsed, Around, Clear, ClearAll, ClearBy, ClearIn, Distinct, OwnClear, Stand, above, around_in, claims, claims_all, claims_by, claims_in, elsewhere, in_body, is_owned, is_owner, is_scope_space, owned, stand_in}
use Rattle.es_valid_names.proofs.NameSteps.{around, start-clear}
use Rattle.es_valid_names.proofs.Owners.{EachUsed}
use Rattle.es_using_rows.proofs.BodyNames.{Clashing, Covered, Held, NodeCase, clash-before, clash-behind, inside as inside_test, inside-table, node-case, top-covered}
use Rattle.es_using_rows.proofs.BodyNames.Held.{found, further}

-- WHAT IS SAID of each function, arrow and static block

-- what these statements at the top of a body declare otherwise they don't declare by `var`
abbrev pub NamesApart : Trees → Type 0
NamesApart ts = list_all (no_name_of (declared_among false Top ts)) (declared_among true Top ts) ≡ true

abbrev pub BodyApart : AstType → Label → Fields → Type 0
BodyApart FunctionDeclaration m fs = (f : Field) (ps : Trees) (l : Label) (ds ts : Trees) → fs ≡ function_fields f ps (body l ds ts) → NamesApart ts
BodyApart FunctionExpression m fs = (f : Field) (ps : Trees) (l : Label) (ds ts : Trees) → fs ≡ function_fields f ps (body l ds ts) → NamesApart ts
BodyApart ArrowFunctionExpression m fs = (ps : Trees) (l : Label) (ds ts : Trees) → fs ≡ arrow_fields ps (body l ds ts) → NamesApart ts
BodyApart StaticBlock m fs = (ts : Trees) → fs ≡ (statements ts then done) → NamesApart ts
BodyApart k m fs = Unit {0}

-- NAMES that would clash, where the scope's don't

record Holds (bs : List Bound) (x : Text) : Type 0 where
  bound : Bound
  held : Held bound bs
  same : bound.name ≡ x

holds : (bs : List Bound) (x : Text) → bound_by bs x ≡ true → Holds bs x
holds [] x e = absurd (cc e)
holds (b ∷ bs) x e = at (bytes_eq b.name x) refl e (holds bs x)
  where
    at : (c : Bool) → bytes_eq b.name x ≡ c → is_some (if c then Some b.symbol else sought bs x) ≡ true → (bound_by bs x ≡ true → Holds bs x) → Holds (b ∷ bs) x
    at true d e f = record { bound = b; held = found refl; same = bytes_eq-equal b.name x d }
    at false d e f = let r = f e in record { bound = r.bound; held = further r.held; same = r.same }

module _ (gs : List (List Name)) (vs ls : List Bound) (c : Covered true gs vs ls) (clear : Clashing gs → ⊥) where
  none-same : (us : List Bound) → ((x : Bound) → Held x us → Held x vs) → list_all (no_name_of ls) us ≡ true
  none-same [] h = refl
  none-same (u ∷ us) h = λ i. at (bound_by ls u.name) refl i && none-same us (λ x k. h x (further k)) i
    where
      at : (b : Bool) → bound_by ls u.name ≡ b → not b ≡ true
      at true e = absurd (let r = holds ls u.name e in clear (c.apart refl u r.bound (h u (found refl)) r.held (sym r.same)))
      at false e = refl

  names-apart : list_all (no_name_of ls) vs ≡ true
  names-apart = none-same vs (λ x k. k)

-- BODIES

module _ (used : Text → Bool) where
  -- the statements of a body, in a function or an arrow that is looked at
  body-apart : (l : Label) (ds ts : Trees) (vs : List Ancestor) → scopes vs ≡ 1 ∷ [] → All NodeCase (body l ds ts) → EdgesIn inside_test FunctionBody 0 (body_fields ds ts) → (Clashing (claims is_owned vs (body l ds ts)) → ⊥) → NamesApart ts
  body-apart l ds ts vs e q d h =
      let up = above FunctionBody l (body_fields ds ts) 1 0 ∷ vs in
      let directives = claims_all is_owned (above FunctionBody l (body_fields ds ts) 0 0 ∷ vs) ds in
      let list = claims_all is_owned up ts in
      names-apart list (declared_among true Top ts) (declared_among false Top ts) (top-covered up FunctionBody 1 ts e q.1.1.0 d.1.0) (λ c. h (clash-behind directives (list ++ []) (clash-before list [] c)))

  function-apart : (k : AstType) (m : Label) (fs : Fields) → ((gs : Fields) → scopes (above k m gs 2 1 ∷ []) ≡ 1 ∷ []) → (f : Field) (ps : Trees) (l : Label) (ds ts : Trees) → fs ≡ function_fields f ps (body l ds ts) → AllIn NodeCase fs → EdgesIn inside_test k 0 fs → Distinct used [] (claims_in is_owned [] k m fs 1 0 fs) → NamesApart ts
  function-apart k m fs scoped f ps l ds ts e q d h =
      let given = subst (λ (gs : Fields). AllIn NodeCase gs × EdgesIn inside_test k 0 gs × Distinct used [] (claims_in is_owned [] k m gs 1 0 gs)) e (q, d, h) in
      let all = function_fields f ps (body l ds ts) in
      let name = claims_by is_owned (above k m all 0 1 ∷ []) f in
      let parameters = claims_all is_owned (above k m all 1 1 ∷ []) ps in
      let inner = claims is_owned (above k m all 2 1 ∷ []) (body l ds ts) in
      body-apart l ds ts (above k m all 2 1 ∷ []) (scoped all) given.0.1.1.0 given.1.1.1.0.1 (λ c. clash-behind name (parameters ++ (inner ++ [])) (clash-behind parameters (inner ++ []) (clash-before inner [] c)) used [] given.2)

  arrow-apart : (m : Label) (fs : Fields) (ps : Trees) (l : Label) (ds ts : Trees) → fs ≡ arrow_fields ps (body l ds ts) → AllIn NodeCase fs → EdgesIn inside_test ArrowFunctionExpression 0 fs → Distinct used [] (claims_in is_owned [] ArrowFunctionExpression m fs 1 0 fs) → NamesApart ts
  arrow-apart m fs ps l ds ts e q d h =
      let given = subst (λ (gs : Fields). AllIn NodeCase gs × EdgesIn inside_test ArrowFunctionExpression 0 gs × Distinct used [] (claims_in is_owned [] ArrowFunctionExpression m gs 1 0 gs)) e (q, d, h) in
      let all = arrow_fields ps (body l ds ts) in
      let parameters = claims_all is_owned (above ArrowFunctionExpression m all 0 1 ∷ []) ps in
      let inner = claims is_owned (above ArrowFunctionExpression m all 1 1 ∷ []) (body l ds ts) in
      body-apart l ds ts (above ArrowFunctionExpression m all 1 1 ∷ []) refl given.0.1.0 given.1.1.0.1 (λ c. clash-behind parameters (inner ++ []) (clash-before inner [] c) used [] given.2)

  static-apart : (m : Label) (fs : Fields) (ts : Trees) → fs ≡ (statements ts then done) → AllIn NodeCase fs → EdgesIn inside_test StaticBlock 0 fs → Distinct used [] (claims_in is_owned [] StaticBlock m fs 1 0 fs) → NamesApart ts
  static-apart m fs ts e q d h =
      let given = subst (λ (gs : Fields). AllIn NodeCase gs × EdgesIn inside_test StaticBlock 0 gs × Distinct used [] (claims_in is_owned [] StaticBlock m gs 1 0 gs)) e (q, d, h) in
      let up = above StaticBlock m (statements ts then done) 0 1 ∷ [] in
      let list = claims_all is_owned up ts in
      names-apart list (declared_among true Top ts) (declared_among false Top ts) (top-covered up StaticBlock 0 ts refl given.0.0 given.1.0) (λ c. clash-before list [] c used [] given.2)

  node-apart : (k : AstType) (l : Label) (fs : Fields) (s : Stand) → AllIn NodeCase fs → EdgesIn inside_test k 0 fs → OwnClear used (is_owner k) (owned s k l fs) → BodyApart k l fs
  node-apart FunctionDeclaration m fs s q e h = λ f ps l ds ts d. function-apart FunctionDeclaration m fs (λ gs. refl) f ps l ds ts d q e h
  node-apart FunctionExpression m fs s q e h = λ f ps l ds ts d. function-apart FunctionExpression m fs (λ gs. refl) f ps l ds ts d q e h
  node-apart ArrowFunctionExpression m fs s q e h = λ ps l ds ts d. arrow-apart m fs ps l ds ts d q e h
  node-apart StaticBlock m fs s q e h = λ ts d. static-apart m fs ts d q e h
  node-apart k m fs s q e h = tt

-- TREES

in-used : (c : Around) (b : Bool) (gs : List (List Name)) → (around_in c b gs).used ≡ c.used
in-used c true gs = refl
in-used c false gs = refl

module _ (used : Text → Bool) where
  mutual
    tree-apart : (c : Around) (s : Stand) (t : Tree) → c.used ≡ used → All NodeCase t → EdgesIn inside_test (kind_of t) 0 (fields_of t) → Clear c s t → All BodyApart t
    tree-apart c s (node k l fs) u q e h = (node-apart used k l fs s q.1 e (subst (λ (v : Text → Bool). OwnClear v (is_owner k) (owned s k l fs)) u h.0), fields-apart c (owned s k l fs) s k fs 0 fs u q.1 e h.2)

    fields-apart : (c : Around) (gs : List (List Name)) (s : Stand) (k : AstType) (all : Fields) (i : ℕ) (fs : Fields) → c.used ≡ used → AllIn NodeCase fs → EdgesIn inside_test k i fs → ClearIn c gs s k all i fs → AllIn BodyApart fs
    fields-apart c gs s k all i done u q e h = tt
    fields-apart c gs s k all i (f then fs) u q e h = (field-apart (around_in c (in_body k i) gs) (stand_in s k all i) k i (is_last fs) f (in-used c (in_body k i) gs ∙ u) q.0 e.0 h.0, fields-apart c gs s k all (suc i) fs u q.1 e.1 h.1)

    field-apart : (c : Around) (s : Stand) (k : AstType) (i : ℕ) (last : Bool) (f : Field) → c.used ≡ used → AllBy NodeCase f → EdgesBy inside_test k i last f → ClearBy c s f → AllBy BodyApart f
    field-apart c s k i last missing u q e h = tt
    field-apart c s k i last (one (node j m gs)) u q e h = tree-apart c s (node j m gs) u q e.1 h
    field-apart c s k i last (many ts) u q e h = trees-apart c s k i ts u q e h
    field-apart c s k i last (statements ts) u q e h = trees-apart c s k i ts u q e h

    trees-apart : (c : Around) (s : Stand) (k : AstType) (i : ℕ) (ts : Trees) → c.used ≡ used → AllAmong NodeCase ts → EdgesAll inside_test k i ts → ClearAll c s ts → AllAmong BodyApart ts
    trees-apart c s k i empty u q e h = tt
    trees-apart c s k i (node j m gs before ts) u q e h = (tree-apart c s (node j m gs) u q.0 e.0.1 h.0, trees-apart c s k i ts u q.1 e.1 h.1)

-- A PROGRAM: whatever names are in use

every-used : (ns : List Name) → AllUsed (λ x. true) ns
every-used [] = tt
every-used (n ∷ ns) = (at (is_scope_space n.namespace), every-used ns)
  where
    at : (b : Bool) → (not b || true) ≡ true
    at true = refl
    at false = refl

visits-used : (vs : List Visit) → EachUsed 0 (λ x. true) vs
visits-used [] = tt
visits-used (v ∷ vs) = (every-used (names_of v.ancestors v.tree), visits-used vs)

-- where no scope and no class declares a name twice where it may not
pub clear-apart : (used : Text → Bool) (t : Tree) → has_form s-Program t ≡ true → Clear (around used t) elsewhere t → All BodyApart t
clear-apart used (node k l fs) f h = tree-apart used (around used (node k l fs)) elsewhere (node k l fs) refl (all-tree NodeCase node-case s-Program (node k l fs) f) (edges-inside inside_test inside-table s-Program k l fs f) h

pub bodies-apart : (t : Tree) → has_form s-Program t ≡ true → breaks t ≡ [] → All BodyApart t
bodies-apart t f e = clear-apart (λ x. true) t f (start-clear (λ x. true) t f (law_declared_among_proof t e) (visits-used (visits [] 0 t)))
