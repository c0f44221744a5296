-- Declarators that came of others, one after another.
use Rattle.std.proofs.Common.{ap, append-nil, append_assoc, arith, length, refl, subst, sym, ◌+◌, ◌++◌, ◌-◌, ◌<◌, ◌^◌, ◌∙◌, ◌∷◌, ◌≡◌, [], List, Option, ℕ}
use Rattle.std.proofs.lemmas.Bool.{and_from, and_parts, or_from, or_parts}
use Rattle.std.specs.Prelude.{Bool, false, true}
use Rattle.es_tree.specs.Children.{child_at}
use Rattle.es_tree.specs.HasForm.{has_form, is_of_sort, trees_form}
use Rattle.es_tree.specs.Tree.{Fields, Label, Tree, Trees, done, empty, fields_of, kind_of, many, missing, node, one, statements, trees, ◌before◌, ◌then◌}
use Rattle.es_tree.specs.Walks.{any_in_trees, any_node}
use Rattle.es_tree.specs.Words.{Text}
use Rattle.es_tree.specs.declared.ast_type.AstType.{AstType}
use Rattle.es_tree.specs.declared.ast_type.AstType.TheVariants.{ArrayPattern, Identifier, ObjectPattern, VariableDeclarator}
use Rattle.es_tree.specs.declared.table.Sort.TheVariants.{Binding as s-Binding, VariableDeclarator as s-VariableDeclarator}
use Rattle.es_tree.proofs.NodeForm.{node_form}
use Rattle.es_scope.specs.declared.context.TraverseCtx.{TraverseCtx}
use Rattle.es_resolution.specs.Declarations.{Bound}
use Rattle.es_resolution.specs.Seen.{seen, seen_among}
use Rattle.es_runs.proofs.OptionalChainingWeights.{tests_size-append}
use Rattle.es_steps.specs.Nodes.{joined_trees}
use Rattle.es_steps.specs.Open.{Additions, Pending, opened}
use Rattle.es_steps.specs.Steps.{Site, Step, Steps, Whole, ledger}
use Rattle.es_steps.specs.Steps.Steps.{stays}
use Rattle.es_steps.proofs.FormLists.{first-formed}
use Rattle.es_steps.proofs.Written.{joined-twice}
use Rattle.es_changes.specs.Moments.{Moment, whole_at}
use Rattle.es_changes.proofs.StepRows.{steps-trans}
use Rattle.es_valid_rests.specs.RestRules.{all_declare, is_binding, is_binding_kind}
use Rattle.es_valid_rests.proofs.RestFormsDeclared.{list-parts}
use Rattle.es_rest_rows.specs.RestRows.{RestWalkRow, declaring, is_exported}
use Rattle.es_rest_shapes.specs.RestShapes.{any_tree, bears_rest, is_rest_declaration, is_rest_declarator, is_stray_rest}
use Rattle.lower_nodes.specs.Nodes.{owed, owed_among}
use Rattle.lower_temporaries.specs.Takings.{moment_of}
use Rattle.lower_temporaries.specs.declared.state.TransformState.{TransformState}
use Rattle.lower_object_rest.specs.Declarators.{AddsAll, AddsDeclarators, AreKnown, AreSettled, Grows, LowersAll, Rows}
use Rattle.lower_object_rest.specs.Nested.{Turns}
use Rattle.lower_object_rest.specs.Profile.{rest_owes}
use Rattle.lower_object_rest.specs.Rule.{all_declare_joined}

-- LISTS

pub append-seen : (names : ℕ → Text → Option ℕ) (xs ys : List Tree) → seen_among names (trees (xs ++ ys)) ≡ joined_trees (seen_among names (trees xs)) (seen_among names (trees ys))
append-seen names [] ys = refl
append-seen names (x ∷ xs) ys = ap (λ us. seen names x before us) (append-seen names xs ys)

pub owed-append : (xs ys : List Tree) → owed_among rest_owes (trees (xs ++ ys)) ≡ owed_among rest_owes (trees xs) + owed_among rest_owes (trees ys)
owed-append [] ys = omega arith
owed-append (x ∷ xs) ys = omega (arith, owed-append xs ys)

module _ (p : Tree → Bool) where
  pub any-joined : (xs ys : Trees) → any_tree p xs ≡ false → any_tree p ys ≡ false → any_tree p (joined_trees xs ys) ≡ false
  any-joined empty ys h k = k
  any-joined (x before xs) ys h k = let parts = or_parts (p x) (any_tree p xs) h in or_from (p x) (any_tree p (joined_trees xs ys)) parts.0 (any-joined xs ys parts.1 k)

  pub any-before : (xs ys : Trees) → any_tree p (joined_trees xs ys) ≡ false → any_tree p xs ≡ false
  any-before empty ys h = refl
  any-before (x before xs) ys h = let parts = or_parts (p x) (any_tree p (joined_trees xs ys)) h in or_from (p x) (any_tree p xs) parts.0 (any-before xs ys parts.1)

module _ (p : AstType → Label → Fields → Bool) where
  pub nodes-joined : (xs ys : Trees) → any_in_trees p xs ≡ false → any_in_trees p ys ≡ false → any_in_trees p (joined_trees xs ys) ≡ false
  nodes-joined empty ys h k = k
  nodes-joined (x before xs) ys h k = let parts = or_parts (any_node p x) (any_in_trees p xs) h in or_from (any_node p x) (any_in_trees p (joined_trees xs ys)) parts.0 (nodes-joined xs ys parts.1 k)

  pub nodes-parts : (xs ys : Trees) → any_in_trees p (joined_trees xs ys) ≡ false → (any_in_trees p xs ≡ false) × (any_in_trees p ys ≡ false)
  nodes-parts empty ys h = (refl, h)
  nodes-parts (x before xs) ys h =
      let parts = or_parts (any_node p x) (any_in_trees p (joined_trees xs ys)) h in
      let rest = nodes-parts xs ys parts.1 in
      (or_from (any_node p x) (any_in_trees p xs) parts.0 rest.0, rest.1)

-- WHAT IS KNOWN

-- a declarator that has form declares a name or a pattern
binding-sort : (k : AstType) → is_of_sort s-Binding k ≡ true → is_binding_kind k ≡ true
binding-sort Identifier e = refl
binding-sort ObjectPattern e = refl
binding-sort ArrayPattern e = refl
binding-sort _ e = absurd (cc e)

binding-form : (t : Tree) → has_form s-Binding t ≡ true → is_binding_kind (kind_of t) ≡ true
binding-form (node k l fs) h = binding-sort k (node_form s-Binding k l fs h).sort

declarator-form : (d : Tree) → has_form s-VariableDeclarator d ≡ true → is_binding (child_at 0 (fields_of d)) ≡ true
declarator-form (node VariableDeclarator l (one p then (f then fs))) h = binding-form p (and_parts (has_form s-Binding p) _ (node_form s-VariableDeclarator VariableDeclarator l (one p then (f then fs)) h).children).0
declarator-form (node VariableDeclarator l (one p then done)) h = binding-form p (and_parts (has_form s-Binding p) false (node_form s-VariableDeclarator VariableDeclarator l (one p then done) h).children).0
declarator-form (node VariableDeclarator l (missing then fs)) h = absurd (cc (node_form s-VariableDeclarator VariableDeclarator l (missing then fs) h).children)
declarator-form (node VariableDeclarator l (many ts then fs)) h = absurd (cc (node_form s-VariableDeclarator VariableDeclarator l (many ts then fs) h).children)
declarator-form (node VariableDeclarator l (statements ts then fs)) h = absurd (cc (node_form s-VariableDeclarator VariableDeclarator l (statements ts then fs) h).children)
declarator-form (node VariableDeclarator l done) h = absurd (cc (node_form s-VariableDeclarator VariableDeclarator l done h).children)
declarator-form (node k l fs) h = absurd (cc (node_form s-VariableDeclarator k l fs h).sort)

pub declarators-form : (ds : Trees) → trees_form s-VariableDeclarator s-VariableDeclarator ds ≡ true → all_declare ds ≡ true
declarators-form empty h = refl
declarators-form (d before ds) h = let parts = first-formed s-VariableDeclarator d ds h in and_from _ (all_declare ds) (declarator-form d parts.0) (declarators-form ds parts.1)

pub known-parts : (ds es : Trees) → AreKnown (joined_trees ds es) → AreKnown ds × AreKnown es
known-parts ds es k =
    let formed = list-parts s-VariableDeclarator ds es k.formed in
    let strays = nodes-parts is_stray_rest ds es k.strays in
    let inside = nodes-parts is_rest_declaration ds es k.inside in
    (record { formed = formed.0; strays = strays.0; inside = inside.0 }, record { formed = formed.1; strays = strays.1; inside = inside.1 })

-- WHAT IS SETTLED

pub settled-joined : (us vs : Trees) → AreSettled us → AreSettled vs → AreSettled (joined_trees us vs)
settled-joined us vs first last = record {
  declare = all_declare_joined us vs first.declare last.declare;
  rests = any-joined is_rest_declarator us vs first.rests last.rests;
  inside = nodes-joined is_rest_declaration us vs first.inside last.inside;
  patterns = any-joined bears_rest us vs first.patterns last.patterns;
  strays = nodes-joined is_stray_rest us vs first.strays last.strays;
}

pub settled-none : AreSettled empty
settled-none = record { declare = refl; rests = refl; inside = refl; patterns = refl; strays = refl }

no-pattern : (d : Tree) → has_form s-VariableDeclarator d ≡ true → bears_rest d ≡ false
no-pattern (node VariableDeclarator l fs) h = refl
no-pattern (node k l fs) h = absurd (cc (node_form s-VariableDeclarator k l fs h).sort)

no-patterns : (ds : Trees) → trees_form s-VariableDeclarator s-VariableDeclarator ds ≡ true → any_tree bears_rest ds ≡ false
no-patterns empty h = refl
no-patterns (d before ds) h = let parts = first-formed s-VariableDeclarator d ds h in or_from (bears_rest d) (any_tree bears_rest ds) (no-pattern d parts.0) (no-patterns ds parts.1)

-- known declarators of which none has a pattern with a rest
pub settled-known : (us : Trees) → AreKnown us → any_tree is_rest_declarator us ≡ false → AreSettled us
settled-known us k none = record { declare = declarators-form us k.formed; rests = none; inside = k.inside; patterns = no-patterns us k.formed; strays = k.strays }

-- NAMES that were made

pub grows-same : (a : Moment) → Grows a a
grows-same a = record { made = λ x e. e; steady = refl }

pub grows-then : {a b c : Moment} → Grows a b → Grows b c → Grows a c
grows-then g h = record { made = λ x e. h.made x (g.made x e); steady = h.steady ∙ g.steady }

-- ROWS

abbrev at_declaration : Label → Trees → Trees → Tree
at_declaration m cs es = declaring m (joined_trees cs es)

module _ (a b c : Moment) (ds us es vs : Trees) (g : Rows a ds b us) (h : Rows b es c vs) where
  rows-steps : AreKnown (joined_trees ds es) → (n : Site) (m : Label) (cs fs : Trees) → is_exported n ≡ false → all_declare cs ≡ true → all_declare fs ≡ true → (q : Pending) (x : Option Bound) (y : Additions) →
      Steps (Step RestWalkRow n) (ledger (whole_at a) q x y) (opened (at_declaration m cs (joined_trees (joined_trees ds es) fs))) (ledger (whole_at c) q x y) (opened (at_declaration m cs (joined_trees (joined_trees us vs) fs)))
  rows-steps k n m cs fs inside earlier later q x y =
      let parts = known-parts ds es k in
      let settled = g.settled parts.0 in
      let first = g.steps parts.0 n m cs (joined_trees es fs) inside earlier (all_declare_joined es fs (declarators-form es parts.1.formed) later) q x y in
      let last = h.steps parts.1 n m (joined_trees cs us) fs inside (all_declare_joined cs us earlier settled.declare) later q x y in
      let S = Step RestWalkRow n in
      let earlier_is : joined_trees cs (joined_trees ds (joined_trees es fs)) ≡ joined_trees cs (joined_trees (joined_trees ds es) fs) = ap (joined_trees cs) (sym (joined-twice ds es fs)) in
      let mid_is : joined_trees (joined_trees cs us) (joined_trees es fs) ≡ joined_trees cs (joined_trees us (joined_trees es fs)) = joined-twice cs us (joined_trees es fs) in
      let later_is : joined_trees (joined_trees cs us) (joined_trees vs fs) ≡ joined_trees cs (joined_trees (joined_trees us vs) fs) = joined-twice cs us (joined_trees vs fs) ∙ ap (joined_trees cs) (sym (joined-twice us vs fs)) in
      let mended = subst (λ (ts : Trees). Steps S (ledger (whole_at b) q x y) (opened (declaring m ts)) (ledger (whole_at c) q x y) (opened (at_declaration m (joined_trees cs us) (joined_trees vs fs)))) mid_is last in
      subst (λ (ts : Trees). Steps S (ledger (whole_at a) q x y) (opened (declaring m ts)) (ledger (whole_at c) q x y) (opened (at_declaration m cs (joined_trees (joined_trees us vs) fs)))) earlier_is
      (subst (λ (ts : Trees). Steps S (ledger (whole_at a) q x y) (opened (at_declaration m cs (joined_trees ds (joined_trees es fs)))) (ledger (whole_at c) q x y) (opened (declaring m ts))) later_is (steps-trans first mended))

  rows-then : Rows a (joined_trees ds es) c (joined_trees us vs)
  rows-then = record {
    steps = rows-steps;
    settled = λ k.
        let parts = known-parts ds es k in
        settled-joined us vs (g.settled parts.0) (h.settled parts.1);
  }

-- STEPS, one after another

-- those before a declarator that is left
module _ (a b c : Moment) (ds us es vs hs : Trees) (g : Turns a ds b us es) (h : Turns b es c vs hs) where
  turns-steps : AreKnown ds → (n : Site) (m : Label) (cs fs : Trees) → is_exported n ≡ false → all_declare cs ≡ true → all_declare fs ≡ true → (q : Pending) (x : Option Bound) (y : Additions) →
      Steps (Step RestWalkRow n) (ledger (whole_at a) q x y) (opened (at_declaration m cs (joined_trees ds fs))) (ledger (whole_at c) q x y) (opened (at_declaration m cs (joined_trees (joined_trees us vs) (joined_trees hs fs))))
  turns-steps k n m cs fs inside earlier later q x y =
      let S = Step RestWalkRow n in
      let first = g.steps k n m cs fs inside earlier later q x y in
      let last = h.steps (g.known k) n m (joined_trees cs us) fs inside (all_declare_joined cs us earlier (g.settled k).declare) later q x y in
      let mid_is : joined_trees (joined_trees cs us) (joined_trees es fs) ≡ joined_trees cs (joined_trees us (joined_trees es fs)) = joined-twice cs us (joined_trees es fs) in
      let later_is : joined_trees (joined_trees cs us) (joined_trees vs (joined_trees hs fs)) ≡ joined_trees cs (joined_trees (joined_trees us vs) (joined_trees hs fs)) =
      joined-twice cs us (joined_trees vs (joined_trees hs fs)) ∙ ap (joined_trees cs) (sym (joined-twice us vs (joined_trees hs fs))) in
      let mended = subst (λ (ts : Trees). Steps S (ledger (whole_at b) q x y) (opened (declaring m ts)) (ledger (whole_at c) q x y) (opened (at_declaration m (joined_trees cs us) (joined_trees vs (joined_trees hs fs))))) mid_is last in
      subst (λ (ts : Trees). Steps S (ledger (whole_at a) q x y) (opened (at_declaration m cs (joined_trees ds fs))) (ledger (whole_at c) q x y) (opened (declaring m ts))) later_is (steps-trans first mended)

  pub turns-then : Turns a ds c (joined_trees us vs) hs
  turns-then = record { steps = turns-steps; settled = λ k. settled-joined us vs (g.settled k) (h.settled (g.known k)); known = λ k. h.known (g.known k) }

-- rows of the first of some declarators
pub rows-first : (a b : Moment) (ds us es : Trees) → Rows a ds b us → Turns a (joined_trees ds es) b us es
rows-first a b ds us es g = record {
  steps = λ k n m cs fs inside earlier later q x y.
      let parts = known-parts ds es k in
      let S = Step RestWalkRow n in
      subst (λ (ts : Trees). Steps S (ledger (whole_at a) q x y) (opened (at_declaration m cs ts)) (ledger (whole_at b) q x y) (opened (at_declaration m cs (joined_trees us (joined_trees es fs))))) (sym (joined-twice ds es fs))
      (g.steps parts.0 n m cs (joined_trees es fs) inside earlier (all_declare_joined es fs (declarators-form es parts.1.formed) later) q x y);
  settled = λ k. g.settled (known-parts ds es k).0;
  known = λ k. (known-parts ds es k).1;
}

-- none is left
pub turns-all : (a b : Moment) (ds us : Trees) → Turns a ds b us empty → Rows a ds b us
turns-all a b ds us g = record { steps = g.steps; settled = g.settled }

-- no step, of declarators that stay
pub turns-none : (a : Moment) (ds : Trees) → Turns a ds a empty ds
turns-none a ds = record { steps = λ k n m cs fs inside earlier later q x y. stays; settled = λ k. settled-none; known = λ k. k }

pub rows-turns : (a b : Moment) (ds us : Trees) → Rows a ds b us → Turns a ds b us empty
rows-turns a b ds us g = record { steps = g.steps; settled = g.settled; known = λ k. record { formed = refl; strays = refl; inside = refl } }

-- known declarators of which none has a pattern with a rest, with ids more or none
pub rows-same : (a b : Moment) → whole_at b ≡ whole_at a → (us : Trees) → (AreKnown us → any_tree is_rest_declarator us ≡ false) → Rows a us b us
rows-same a b same us none = record {
  steps = λ k n m cs fs inside earlier later q x y.
      subst (λ (w : Whole). Steps (Step RestWalkRow n) (ledger (whole_at a) q x y) (opened (at_declaration m cs (joined_trees us fs))) (ledger w q x y) (opened (at_declaration m cs (joined_trees us fs)))) (sym same) stays;
  settled = λ k. settled-known us k (none k);
}

-- LOWERED, one after another

pub lowers-none : (ctx : TraverseCtx TransformState) → LowersAll ctx ctx [] []
lowers-none ctx = record {
  paid = record { lists = refl; around = refl; options = refl; counted = omega arith; lighter = omega arith; nodes = omega arith };
  grows = grows-same (moment_of ctx);
  rows = λ names. record { steps = λ k n m cs es inside earlier later q x y. stays; settled = λ k. settled-none };
}

pub lowers-then : (old mid new : TraverseCtx TransformState) (ds us es vs : List Tree) → LowersAll old mid ds us → LowersAll mid new es vs → LowersAll old new (ds ++ es) (us ++ vs)
lowers-then old mid new ds us es vs g h =
    let p = g.paid in
    let q = h.paid in
    let a = moment_of old in
    let b = moment_of mid in
    let c = moment_of new in
    record {
      paid = record {
        lists = q.lists ∙ p.lists;
        around = q.around ∙ p.around;
        options = q.options ∙ p.options;
        counted = omega (arith, p.counted, q.counted);
        lighter = omega (arith, p.lighter, q.lighter, owed-append ds es, owed-append us vs);
        nodes = omega (arith, p.nodes, q.nodes, tests_size-append ds es, tests_size-append us vs);
      };
      grows = grows-then g.grows h.grows;
      rows = λ names.
          subst (λ (ts : Trees). Rows a ts c (seen_among names (trees (us ++ vs)))) (sym (append-seen names ds es))
          (subst (λ (ts : Trees). Rows a (joined_trees (seen_among names (trees ds)) (seen_among names (trees es))) c ts) (sym (append-seen names us vs)) (rows-then a b c _ _ _ _ (g.rows names) (h.rows names)));
    }

-- ALL DECLARATORS

-- those before the rest were lowered, and what came of them stands behind what was made before
pub record LoweredSoFar (old new : TraverseCtx TransformState) (all ts us rest : List Tree) : Type 0 where
  pub first : List Tree
  pub are : all ≡ first ++ rest
  pub adds : AddsAll old new first ts us

pub so-far-none : (ctx : TraverseCtx TransformState) (all ts : List Tree) → LoweredSoFar ctx ctx all ts ts all
so-far-none ctx all ts = record { first = []; are = refl; adds = record { added = []; are = sym (append-nil ts); lowers = lowers-none ctx } }

module _ (old mid : TraverseCtx TransformState) (all ts us : List Tree) (d : Tree) (rest : List Tree) (h : LoweredSoFar old mid all ts us (d ∷ rest)) where
  pub so-far-room : old.ast.next + owed_among rest_owes (trees all) < 2 ^ 32 - 1 → mid.ast.next + owed rest_owes d < 2 ^ 32 - 1
  so-far-room room =
      let whole = ap (λ (xs : List Tree). owed_among rest_owes (trees xs)) h.are in
      let lighter = h.adds.lowers.paid.lighter in
      omega (arith, room, whole, lighter, owed-append h.first (d ∷ rest))

  pub so-far-next : (new : TraverseCtx TransformState) (vs : List Tree) → AddsDeclarators mid new d us vs → LoweredSoFar old new all ts vs rest
  so-far-next new vs a = record {
    first = h.first ++ d ∷ [];
    are = h.are ∙ sym (append_assoc h.first (d ∷ []) rest);
    adds = record {
      added = h.adds.added ++ a.added;
      are = a.are ∙ (ap (λ (xs : List Tree). xs ++ a.added) h.adds.are ∙ append_assoc ts h.adds.added a.added);
      lowers = lowers-then old mid new h.first h.adds.added (d ∷ []) a.added h.adds.lowers a.lowers;
    };
  }

none-of : (ts : List Tree) → length ts ≡ 0 → ts ≡ []
none-of [] e = refl
none-of (t ∷ ts) e = absurd (omega (arith, e))

pub so-far-all : (old new : TraverseCtx TransformState) (all ts us rest : List Tree) → length rest ≡ 0 → LoweredSoFar old new all ts us rest → AddsAll old new all ts us
so-far-all old new all ts us rest e h = subst (λ (xs : List Tree). AddsAll old new xs ts us) (sym (h.are ∙ (ap (λ (xs : List Tree). h.first ++ xs) (none-of rest e) ∙ append-nil h.first))) h.adds
