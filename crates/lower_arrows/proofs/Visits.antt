-- What the code's answers ask of a walk over nodes.
use Rattle.std.proofs.Common.{◌≡◌, ◌+◌, ℕ, sym, subst, true, false, Bool, []}
use Rattle.std.specs.Prelude.{Option}
use Rattle.std.proofs.lemmas.Bool.{and_parts}
use Rattle.es_tree.specs.HasForm.{same_type}
use Rattle.es_tree.specs.declared.ast_type.AstType.{AstType}
use Rattle.es_tree.specs.Tree.{Tree, node, Label, Fields, fields_size, tree_size}
use Rattle.es_tree.specs.Words.{Text}
use Rattle.es_tree.specs.declared.ast_type.AstType.TheVariants.{ArrowFunctionExpression, ThisExpression}
use Rattle.es_resolution.specs.Declarations.{Bound}
use Rattle.es_resolution.specs.Seen.{seen, seen_in}
use Rattle.es_runs.specs.Weights.{fields_weight, weight}
use Rattle.es_changes.specs.Moments.{Moment, whole_at}
use Rattle.es_steps.specs.Open.{opened}
use Rattle.es_steps.specs.Steps.{Step, Steps, Whole, ledger}
use Rattle.lower_temporaries.specs.SeenTrees.{no_bindings}
use Rattle.lower_temporaries.proofs.SeenLaws.{size-seen}
use Rattle.lower_writing.proofs.SeenWeights.{weight-seen}
use Rattle.lower_arrows.specs.Functions.{function_from, ids_in}
use Rattle.lower_arrows.specs.Lowered.{walk_rule}
use Rattle.lower_arrows.specs.Walks.{Paid, Walked, WalkedFields, belongs_at, may_belong}
use Rattle.lower_arrows.proofs.MadeFunctions.{arrow-paid}
use Rattle.lower_arrows.proofs.Nodes.{arrow-walked}
use Rattle.lower_arrows.proofs.Seen.{node-seen}

-- what belongs to an arrow may
pub belongs-may : (outer : Bool) (k : AstType) (i : ℕ) → belongs_at outer k i ≡ true → may_belong outer k ≡ true
belongs-may outer k i e = (and_parts _ (may_belong outer k) e).1

-- AN ARROW whose parts were walked, and that became a function

arrow-by-kind : (o : Bool) (a b c : Moment) (x y : Option Tree) (k : AstType) (l : Label) (fs gs : Fields) (u : Tree) → same_type k ArrowFunctionExpression ≡ true → seen no_bindings u ≡ function_from (seen no_bindings (node k l gs)) → c.next ≡ b.next + ids_in gs → c.lists ≡ b.lists → c.around ≡ b.around → c.options ≡ b.options →
    Paid (may_belong o k) a x (fields_weight fs) (fields_size fs) b y (fields_weight gs) (fields_size gs) → Paid o a x (weight (node k l fs)) (tree_size (node k l fs)) c y (weight u) (tree_size u)
arrow-by-kind o a b c x y ArrowFunctionExpression l fs gs u e = arrow-paid no_bindings (size-seen no_bindings) (weight-seen no_bindings) o a b c x y l fs gs u
arrow-by-kind o a b c x y _ l fs gs u e = absurd (cc e)

pub arrow-node-paid : (o : Bool) (a b c : Moment) (x y : Option Tree) (j k : AstType) (l : Label) (fs gs : Fields) (t u : Tree) → j ≡ k → same_type k ArrowFunctionExpression ≡ true → node k l fs ≡ t → seen no_bindings u ≡ function_from (seen no_bindings (node k l gs)) → c.next ≡ b.next + ids_in gs → c.lists ≡ b.lists → c.around ≡ b.around → c.options ≡ b.options →
    Paid (may_belong o j) a x (fields_weight fs) (fields_size fs) b y (fields_weight gs) (fields_size gs) → Paid o a x (weight t) (tree_size t) c y (weight u) (tree_size u)
arrow-node-paid o a b c x y j k l fs gs t u same arrow is e next lists around options h =
    subst (λ (v : Tree). Paid o a x (weight v) (tree_size v) c y (weight u) (tree_size u)) is
    (arrow-by-kind o a b c x y k l fs gs u arrow e next lists around options (subst (λ (q : AstType). Paid (may_belong o q) a x (fields_weight fs) (fields_size fs) b y (fields_weight gs) (fields_size gs)) same h))

walked-at : (o : Bool) (a b c : Moment) (x y : Option Bound) (t u : Tree) → whole_at c ≡ whole_at b → Walked o a x t b y u → Walked o a x t c y u
walked-at o a b c x y t u e w = record {
  steps = λ n d h text p ad. subst (λ (v : Whole). Steps (Step walk_rule n) (ledger (whole_at a) p x ad) (opened t) (ledger v p y ad) (opened u)) (sym e) (w.steps n d h text p ad);
  own = w.own;
  text = w.text;
  arrows = w.arrows;
  this = w.this;
  body = w.body;
}

arrow-seen : (o : Bool) (a b : Moment) (x y : Option Bound) (k : AstType) (l : Label) (fs gs : Fields) (names : ℕ → Text → Option ℕ) → same_type k ArrowFunctionExpression ≡ true → WalkedFields o k a x (seen_in names fs) b y (seen_in names gs) → Walked o a x (seen names (node k l fs)) b y (function_from (seen names (node k l gs)))
arrow-seen o a b x y ArrowFunctionExpression l fs gs names e w = arrow-walked o a x (record l { id = 0; marks = [] }) (seen_in names fs) b y (seen_in names gs) w
arrow-seen o a b x y _ l fs gs names e w = absurd (cc e)

pub arrow-node-walked : (o : Bool) (a b c : Moment) (x y : Option Bound) (j k : AstType) (l : Label) (fs gs : Fields) (t u : Tree) (names : ℕ → Text → Option ℕ) → j ≡ k → same_type k ArrowFunctionExpression ≡ true → node k l fs ≡ t → seen names u ≡ function_from (seen names (node k l gs)) → whole_at c ≡ whole_at b →
    WalkedFields o j a x (seen_in names fs) b y (seen_in names gs) → Walked o a x (seen names t) c y (seen names u)
arrow-node-walked o a b c x y j k l fs gs t u names same arrow is e whole w =
    walked-at o a b c x y (seen names t) (seen names u) whole
    (subst (λ (v : Tree). Walked o a x (seen names v) b y (seen names u)) is (subst (λ (v : Tree). Walked o a x (seen names (node k l fs)) b y v) (sym e)
    (arrow-seen o a b x y k l fs gs names arrow (subst (λ (q : AstType). WalkedFields o q a x (seen_in names fs) b y (seen_in names gs)) same w))))

-- another node
pub plain-node-walked : (o : Bool) (a b : Moment) (x y : Option Bound) (j k : AstType) (l : Label) (fs gs : Fields) (t : Tree) (names : ℕ → Text → Option ℕ) → j ≡ k → same_type k ArrowFunctionExpression ≡ false → (o ≡ true → same_type k ThisExpression ≡ false) → node k l fs ≡ t →
    WalkedFields o j a x (seen_in names fs) b y (seen_in names gs) → Walked o a x (seen names t) b y (seen names (node k l gs))
plain-node-walked o a b x y j k l fs gs t names same other this is w =
    subst (λ (v : Tree). Walked o a x (seen names v) b y (seen names (node k l gs))) is
    (node-seen o a b x y k l fs gs names other this (subst (λ (q : AstType). WalkedFields o q a x (seen_in names fs) b y (seen_in names gs)) same w))
