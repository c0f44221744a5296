-- A `this` that became the name of its target.
use Rattle.std.proofs.Common.{◌≡◌, ◌∙◌, ◌≤◌, ℕ, List, [], refl, sym, ap, subst, arith}
use Rattle.std.specs.Prelude.{true, false, Option, Some, None, codes, is_some}
use Rattle.es_tree.specs.Fresh.{text_base}
use Rattle.es_tree.specs.HasForm.{same_type}
use Rattle.es_tree.specs.Heads.{Head, head_of, label}
use Rattle.es_tree.specs.Names.{first_text}
use Rattle.es_tree.specs.Tree.{Tree, node, Label, Fields, done, ◌then◌, kind_of, label_of, tree_size}
use Rattle.es_tree.specs.Views.{plain, plain_fields}
use Rattle.es_tree.specs.Words.{Text}
use Rattle.es_tree.specs.declared.ast_type.AstType.{AstType}
use Rattle.es_tree.specs.declared.ast_type.AstType.TheVariants.{Identifier, ThisExpression}
use Rattle.es_tree.specs.declared.ids.NodeId.{NodeId}
use Rattle.es_tree.specs.declared.ids.Span.{Span}
use Rattle.es_tree.specs.declared.kind.Kind.{Kind as NodeKind}
use Rattle.es_tree.specs.declared.node.Field.{Field as NodeField}
use Rattle.es_resolution.specs.Declarations.{Bound}
use Rattle.es_resolution.specs.Seen.{seen, seen_in}
use Rattle.es_runs.specs.Weights.{weight}
use Rattle.es_semantic.specs.NodeMarks.{first_mark}
use Rattle.es_changes.specs.Moments.{Moment, whole_at}
use Rattle.es_steps.specs.Duplication.{IsNext}
use Rattle.es_steps.specs.Nodes.{identifier, placed}
use Rattle.es_traverse.specs.Laws.{Seen}
use Rattle.lower_temporaries.specs.SeenTrees.{IsSeenAs, no_bindings}
use Rattle.es_scope.specs.declared.context.TraverseCtx.{TraverseCtx}
use Rattle.es_scope.specs.declared.flags.SymbolFlags.{SymbolFlags}
use Rattle.lower_temporaries.specs.Takings.{TakesBound, moment_of}
use Rattle.lower_temporaries.specs.Temporaries.{TakesBoundName}
use Rattle.lower_temporaries.specs.declared.state.TransformState.{TransformState}
use Rattle.lower_temporaries.proofs.SeenLaws.{size-seen}
use Rattle.lower_writing.proofs.SeenWeights.{weight-seen}
use Rattle.lower_arrows.specs.Names.{IsName, NameMade, bound_of, name_in}
use Rattle.lower_arrows.specs.Walks.{Paid, Walked}
use Rattle.lower_arrows.proofs.Nodes.{again-walked, first-walked}

-- a made name is that of its node
pub name-of : (t : Tree) (b : Bound) → IsSeenAs t (identifier b) → bound_of t ≡ b
name-of (node k l fs) b h = by k l fs (h no_bindings)
  where
    by : (k : AstType) (l : Label) (fs : Fields) → seen no_bindings (node k l fs) ≡ identifier b → bound_of (node k l fs) ≡ b
    by Identifier l fs e = λ i. record { name = first_text (label_of (e i)).texts; symbol = first_mark (label_of (e i)).marks }
    by _ l fs e = absurd (cc e)

-- a name that was made
pub name-made : (x : Option Tree) (u : Tree) (old new : TraverseCtx TransformState) (scope : ℕ) (flags : SymbolFlags) → is_some x ≡ false → TakesBoundName (text_base (codes "this")) scope flags old new u → NameMade x (moment_of old) (Some u) (moment_of new)
name-made (Some t) u old new scope flags e h = absurd (cc e)
name-made None u old new scope flags e h =
    let same = name-of u h.name h.stands in
    subst (λ (z : Bound). IsNext (whole_at (moment_of old)) (text_base (codes "this")) z × IsSeenAs u (identifier z) × TakesBound z 1 (moment_of old) (moment_of new)) (sym same) (h.next, h.stands, h.takes)

-- A NAME as it is read in the place of another node

name-placed : (k : AstType) (l m : Label) (fs : Fields) (b : Bound) → seen no_bindings (node k l fs) ≡ identifier b → (names : ℕ → Text → Option ℕ) →
    seen names (node k (record l { id = m.id; start = m.start; stop = m.stop }) done) ≡ placed m (seen names (node k l fs))
name-placed Identifier l m done b h names = refl
name-placed Identifier l m (f then fs) b h names = absurd (cc h)
name-placed _ l m fs b h names = absurd (cc h)

pub name-read : (i j : NodeId) (p q : Span) (k l r : NodeKind) (fs gs : Fields) (xs : List NodeField) (name target : Tree) → plain i p k fs ≡ name → plain j q l gs ≡ target → IsName (Some name) → head_of r ≡ head_of k → xs ≡ [] → (names : ℕ → Text → Option ℕ) →
    seen names (plain j q r (plain_fields xs)) ≡ placed (label_of target) (seen names name)
name-read i j p q k l r fs gs xs name target is at named same none names =
    let b = bound_of name in
    let told : seen no_bindings (plain i p k fs) ≡ identifier b = ap (seen no_bindings) is ∙ named no_bindings in
    let read = name-placed (head_of k).kind (label i p (head_of k)) (label j q (head_of l)) fs b told names in
    ap (λ (ys : List NodeField). seen names (plain j q r (plain_fields ys))) none ∙ ap (λ (h : Head). seen names (node h.kind (label j q h) done)) same ∙ read ∙ (λ x. placed (label_of (at x)) (seen names (is x)))

or-else : Tree → Option Tree → Tree
or-else z (Some n) = n
or-else z None = z

same-name : (n z : Tree) → Some n ≡ Some z → n ≡ z
unfolding or-else
same-name n z e = ap (or-else z) e

stands-alone : (a b : Moment) (name : Tree) (x : Option Tree) → IsName x → NameMade x a (Some name) b → IsSeenAs name (identifier (bound_of name))
stands-alone a b name None h m = m.1
stands-alone a b name (Some z) h m = subst (λ (o : Option Tree). IsName o) (sym m.0) h

module _ (a b e : Moment) (x : Option Tree) (name t u : Tree) (this : kind_of t ≡ ThisExpression) (known : IsName x) (made : NameMade x a (Some name) b) (same : e ≡ b) (read : (names : ℕ → Text → Option ℕ) → seen names u ≡ placed (label_of t) (seen names name)) where
  stands : IsSeenAs name (identifier (bound_of name))
  stands = stands-alone a b name x known made

  seen-name : (names : ℕ → Text → Option ℕ) → seen names u ≡ placed (label_of t) (identifier (bound_of name))
  seen-name names = read names ∙ ap (placed (label_of t)) (stands names)

  size-one : tree_size u ≡ 1
  size-one = sym (size-seen no_bindings u) ∙ ap tree_size (seen-name no_bindings)

  weight-one : weight u ≡ 1
  weight-one = sym (weight-seen no_bindings u) ∙ ap weight (seen-name no_bindings)

  some-weight : (t : Tree) → 1 ≤ weight t
  some-weight (node k l fs) = omega arith

  some-size : (t : Tree) → 1 ≤ tree_size t
  some-size (node k l fs) = omega arith

  pub this-paid : Paid true a x (weight t) (tree_size t) e (Some name) (weight u) (tree_size u)
  this-paid = subst (λ (m : Moment). Paid true a x (weight t) (tree_size t) m (Some name) (weight u) (tree_size u)) (sym same) (by x made)
    where
      by : (x : Option Tree) → NameMade x a (Some name) b → Paid true a x (weight t) (tree_size t) b (Some name) (weight u) (tree_size u)
      by None m = record { lists = m.2.lists_are; around = m.2.around_is; options = m.2.options_are; counted = omega (arith, m.2.next_is); lighter = omega (arith, m.2.next_is, weight-one, some-weight t); nodes = omega (arith, m.2.next_is, size-one, some-size t); stays = λ d. refl }
      by (Some z) m = subst (λ (m : Moment). Paid true a (Some z) (weight t) (tree_size t) m (Some name) (weight u) (tree_size u)) (sym m.1) (record { lists = refl; around = refl; options = refl; counted = omega arith; lighter = omega (arith, weight-one, some-weight t); nodes = omega (arith, size-one, some-size t); stays = λ d. refl })

  pub this-walked : Seen (λ v w. Walked true a (name_in x) v e (Some (bound_of name)) w) t u
  this-walked names = subst (λ (w : Tree). Walked true a (name_in x) (seen names t) e (Some (bound_of name)) w) (sym (seen-name names)) (subst (λ (m : Moment). Walked true a (name_in x) (seen names t) m (Some (bound_of name)) (placed (label_of t) (identifier (bound_of name)))) (sym same) (by t this))
    where
      from : (x : Option Tree) → NameMade x a (Some name) b → (l : Label) (fs : Fields) → Walked true a (name_in x) (node ThisExpression l fs) b (Some (bound_of name)) (placed l (identifier (bound_of name)))
      from None m l fs = first-walked a l fs b (bound_of name) m.0 m.2.whole_is
      from (Some z) m l fs = subst (λ (n : Tree). Walked true a (Some (bound_of z)) (node ThisExpression l fs) b (Some (bound_of n)) (placed l (identifier (bound_of n)))) (sym (same-name name z m.0)) (again-walked a l fs b (bound_of z) (ap whole_at m.1))

      by : (t : Tree) → kind_of t ≡ ThisExpression → Walked true a (name_in x) (seen names t) b (Some (bound_of name)) (placed (label_of t) (identifier (bound_of name)))
      by (node ThisExpression l fs) d = from x made (label_of (seen names (node ThisExpression l fs))) (seen_in names fs)
      by (node _ l fs) d = absurd (cc d)

this-kind : (k : AstType) → same_type k ThisExpression ≡ true → k ≡ ThisExpression
this-kind ThisExpression e = refl
this-kind _ e = absurd (cc e)

-- THE SAME of a target that has a name now

module _ (a b e : Moment) (x y : Option Tree) (name t u : Tree) (known : IsName x) (made : NameMade x a y b) (is : y ≡ Some name) where
  made-so : NameMade x a (Some name) b
  made-so = subst (λ (o : Option Tree). NameMade x a o b) is made

  pub is-name : IsName (Some name)
  is-name = stands-alone a b name x known made-so

  pub target-named : IsName y
  target-named = subst IsName (sym is) (stands-alone a b name x known made-so)

  module _ (this : same_type (kind_of t) ThisExpression ≡ true) (same : e ≡ b) (read : (names : ℕ → Text → Option ℕ) → seen names u ≡ placed (label_of t) (seen names name)) where
    pub target-paid : Paid true a x (weight t) (tree_size t) e y (weight u) (tree_size u)
    target-paid = subst (λ (o : Option Tree). Paid true a x (weight t) (tree_size t) e o (weight u) (tree_size u)) (sym is) (this-paid a b e x name t u (this-kind (kind_of t) this) known made-so same read)

    pub target-walked : Seen (λ v w. Walked true a (name_in x) v e (name_in y) w) t u
    target-walked names = subst (λ (o : Option Tree). Walked true a (name_in x) (seen names t) e (name_in o) (seen names u)) (sym is) (this-walked a b e x name t u (this-kind (kind_of t) this) known made-so same read names)
