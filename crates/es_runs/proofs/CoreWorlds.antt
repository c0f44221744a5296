-- In the worlds of core programs a node that isn't core means nothing, so that each node means what its kind does.
use Rattle.std.proofs.Common.{◌≡◌, refl, List, [], ◌∷◌, ap, sym, ◌∙◌}
use Rattle.std.specs.Prelude.{Bool, true, false, ◌&&◌, if◌then◌else◌}
use Rattle.es_tree.specs.Tree.{Tree, node, Label, Fields, done, ◌then◌, missing, one, many, statements, kind_of}
use Rattle.es_tree.specs.declared.ast_type.AstType.{AstType}
use Rattle.es_tree.specs.declared.ast_type.AstType.TheVariants.{Program, Directive, ExpressionStatement, VariableDeclaration, VariableDeclarator, Identifier, ThisExpression, NullLiteral, BooleanLiteral, NumericLiteral, BigIntLiteral, StringLiteral, UnaryExpression, UpdateExpression, BinaryExpression, LogicalExpression, ConditionalExpression, AssignmentExpression, SequenceExpression, MemberExpression, CallExpression, NewExpression, ChainExpression, ParenthesizedExpression, ObjectTarget, ArrayTarget, TargetWithDefault, ObjectPattern, ArrayPattern, AssignmentPattern, Super, PrivateIdentifier}
use Rattle.es_tree.specs.Words.{Text}
use Rattle.es_tree.specs.Names.{first_text as first}
use Rattle.es_tree.specs.Scopes.{Declared}
use Rattle.es_runs.specs.Machine.{Value, stop}
use Rattle.es_runs.specs.Machine.Stop.{unknown}
use Rattle.es_runs.specs.Core.{World, Part, assignment, is_pattern, meaning, meaning_of, nothing, of_two, parts, Form, first_formed, form_beside, own_parts}
use Rattle.es_runs.specs.Runs.{world_of}
use Rattle.es_runs.specs.Core.Form.{math_pow, member_call, member_bind}
use Rattle.es_runs.specs.Core.Part.{absent, single, several}

-- nothing but the core means something
pub record IsCoreWorld (w : World) : Type 0 where
  pub other : (t : Tree) → w.other t ≡ stop unknown
  pub spreads : w.spreads ≡ false

-- as the worlds of runs are
pub core_world : (counts : Bool) (this : Value) (ds : List Declared) → IsCoreWorld (world_of counts this ds)
core_world counts this ds = record { other = λ t. refl; spreads = refl }

-- no spread stands where none is
pub never : (b : Bool) → b && false ≡ false
never true = refl
never false = refl

form_alone : (f : Form) → form_beside false false f ≡ f
form_alone math_pow = refl
form_alone member_call = refl
form_alone member_bind = refl
form_alone _ = refl

pub formed_alone : (ps : List Part) → first_formed (form_beside false false) ps ≡ ps
formed_alone [] = refl
formed_alone (single e ∷ ps) = λ i. single (record { reference = e.reference; form = form_alone e.form i }) ∷ ps
formed_alone (absent ∷ ps) = refl
formed_alone (several es ∷ ps) = refl

-- a callee has its form alone, where no spreads stand among arguments
own_alone : (w : World) → w.spreads ≡ false → (fs : Fields) (ps : List Part) → own_parts w CallExpression fs ps ≡ ps
own_alone w h (f then (many ts then fs)) ps = rw h (formed_alone ps)
own_alone w h done ps = refl
own_alone w h (f then done) ps = refl
own_alone w h (f then (missing then fs)) ps = refl
own_alone w h (f then (one t then fs)) ps = refl
own_alone w h (f then (statements ts then fs)) ps = refl

module _ (w : World) (core : IsCoreWorld w) where
  pattern_means : (t : Tree) → is_pattern (kind_of t) ≡ true → meaning w t ≡ nothing
  pattern_means (node ObjectTarget l fs) h = rw core.other refl
  pattern_means (node ArrayTarget l fs) h = rw core.other refl
  pattern_means (node TargetWithDefault l fs) h = rw core.other refl
  pattern_means (node ObjectPattern l fs) h = rw core.other refl
  pattern_means (node ArrayPattern l fs) h = rw core.other refl
  pattern_means (node AssignmentPattern l fs) h = rw core.other refl
  pattern_means (node _ l fs) h = absurd (cc h)

  to_nothing : (op : Text) (ps : List Part) → of_two (assignment w op) (single nothing ∷ ps) ≡ nothing
  to_nothing op [] = refl
  to_nothing op (absent ∷ ps) = refl
  to_nothing op (several es ∷ ps) = refl
  to_nothing op (single b ∷ []) = refl
  to_nothing op (single b ∷ (p ∷ ps)) = refl

  pub core_means : (k : AstType) (l : Label) (fs : Fields) → meaning w (node k l fs) ≡ meaning_of w k l.texts l.flags (parts w fs)
  core_means AssignmentExpression l (one t then fs) = at (is_pattern (kind_of t)) refl
    where
      at : (b : Bool) → is_pattern (kind_of t) ≡ b → meaning w (node AssignmentExpression l (one t then fs)) ≡ meaning_of w AssignmentExpression l.texts l.flags (parts w (one t then fs))
      at true e = rw (e, core.other) (sym (ap (λ m. of_two (assignment w (first l.texts)) (single m ∷ parts w fs)) (pattern_means t e) ∙ to_nothing (first l.texts) (parts w fs)))
      at false e = rw e refl
  core_means AssignmentExpression l done = refl
  core_means AssignmentExpression l (missing then fs) = refl
  core_means AssignmentExpression l (many ts then fs) = refl
  core_means AssignmentExpression l (statements ts then fs) = refl
  core_means Program l fs = refl
  core_means Directive l fs = refl
  core_means ExpressionStatement l fs = refl
  core_means VariableDeclaration l fs = refl
  core_means VariableDeclarator l fs = refl
  core_means Identifier l fs = refl
  core_means ThisExpression l fs = refl
  core_means NullLiteral l fs = refl
  core_means BooleanLiteral l fs = refl
  core_means NumericLiteral l fs = refl
  core_means BigIntLiteral l fs = refl
  core_means StringLiteral l fs = refl
  core_means UnaryExpression l fs = refl
  core_means UpdateExpression l fs = refl
  core_means BinaryExpression l fs = refl
  core_means LogicalExpression l fs = refl
  core_means ConditionalExpression l fs = refl
  core_means SequenceExpression l fs = refl
  core_means MemberExpression l fs = refl
  core_means CallExpression l fs = ap (λ ps. meaning_of w CallExpression l.texts l.flags ps) (own_alone w core.spreads fs (parts w fs))
  core_means NewExpression l fs = refl
  core_means ChainExpression l fs = refl
  core_means ParenthesizedExpression l fs = refl
  core_means Super l fs = refl
  core_means PrivateIdentifier l fs = refl
  core_means _ l fs = rw core.other refl

-- an assignment to what is no pattern, in any world
pub assigns : (w : World) (l : Label) (t : Tree) (fs : Fields) → is_pattern (kind_of t) ≡ false → meaning w (node AssignmentExpression l (one t then fs)) ≡ meaning_of w AssignmentExpression l.texts l.flags (parts w (one t then fs))
assigns w l t fs e = rw e refl
