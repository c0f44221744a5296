-- Operands mean something where each node of them does that isn't core.
use Rattle.std.proofs.Common.{◌≡◌, ℕ, zero, suc, refl, ap, ◌∙◌}
use Rattle.std.proofs.lemmas.Bool.{and_parts, and_from}
use Rattle.std.specs.Prelude.{Bool, true, false, not, ◌&&◌, ◌||◌, if◌then◌else◌}
use Rattle.es_tree.specs.Tree.{Tree, node, Label, Fields, done, ◌then◌, Field, missing, one, many, statements, Trees, empty, ◌before◌, kind_of}
use Rattle.es_tree.specs.Walks.{all_nodes, all_in_field, all_in_fields, all_in_trees}
use Rattle.es_tree.specs.declared.ast_type.AstType.{AstType}
use Rattle.es_tree.specs.declared.ast_type.AstType.TheVariants.{ArrayTarget, AssignmentExpression, ObjectTarget, ArrayExpression, BigIntLiteral, BinaryExpression, BooleanLiteral, CallExpression, ChainExpression, ConditionalExpression, Identifier, LogicalExpression, MemberExpression, MetaProperty, NewExpression, NullLiteral, NumericLiteral, ObjectExpression, ParenthesizedExpression, RegExpLiteral, SequenceExpression, SpreadElement, StringLiteral, TaggedTemplateExpression, TemplateLiteral, ThisExpression, UnaryExpression, UpdateExpression}
use Rattle.es_runs.specs.Core.{is_other, is_pattern}
use Rattle.es_statement_runs.specs.Operands.{field_over, fields_over, is_expression_node, is_further_kind, stands_over, trees_over}
use Rattle.es_statement_runs.specs.Programs.{is_statement_kind}
use Rattle.es_statement_steps.proofs.Below.{field_passes, fields_pass, trees_pass}
use Rattle.es_statement_steps.proofs.SettledOperands.{is_meant_operand}
use Rattle.es_statement_steps.proofs.Stands.{child_parts, child_stands, is_assigned, is_inner, is_link_kind, is_operand, is_spread, parts_fit, shaped, standing, stands}
use Rattle.es_statement_steps.proofs.StepMoves.{Fine}

-- what may stand as an operand or an argument
abbrev pub is_taken : AstType → Bool
is_taken j = is_operand j || is_spread j

-- a node that isn't core, of a kind of operands, means something
abbrev pub meant_node : AstType → Label → Fields → Bool
meant_node k l fs = not (is_other k fs && is_further_kind k) || is_meant_operand (node k l fs)

abbrev Operand : AstType → Bool
Operand k = is_inner k && (is_statement_kind k && is_taken k)

further-so : (k : AstType) (fs : Fields) → (is_other k fs && Operand k) ≡ true → is_further_kind k ≡ true
further-so RegExpLiteral fs h = refl
further-so TemplateLiteral fs h = refl
further-so TaggedTemplateExpression fs h = refl
further-so ArrayExpression fs h = refl
further-so SpreadElement fs h = refl
further-so ObjectExpression fs h = refl
further-so MetaProperty fs h = refl
further-so AssignmentExpression fs h = refl
further-so _ fs h = absurd (cc h)

expression-so : (k : AstType) (fs : Fields) → (not (is_other k fs) && Operand k) ≡ true → shaped k fs ≡ true → is_expression_node k fs ≡ true
expression-so AssignmentExpression (one t then (one r then done)) h s = refl
expression-so AssignmentExpression fs h s = absurd (cc s)
expression-so CallExpression (one t then (many ts then done)) h s = refl
expression-so CallExpression fs h s = absurd (cc s)
expression-so Identifier fs h s = refl
expression-so ThisExpression fs h s = refl
expression-so NullLiteral fs h s = refl
expression-so BooleanLiteral fs h s = refl
expression-so NumericLiteral fs h s = refl
expression-so BigIntLiteral fs h s = refl
expression-so StringLiteral fs h s = refl
expression-so UnaryExpression fs h s = refl
expression-so UpdateExpression fs h s = refl
expression-so BinaryExpression fs h s = refl
expression-so LogicalExpression fs h s = refl
expression-so ConditionalExpression fs h s = refl
expression-so SequenceExpression fs h s = refl
expression-so MemberExpression fs h s = refl
expression-so ParenthesizedExpression fs h s = refl
expression-so NewExpression fs h s = refl
expression-so ChainExpression fs h s = refl
expression-so _ fs h s = absurd (cc h)

or-left : (a b : Bool) → a ≡ true → (a || b) ≡ true
or-left true b h = refl
or-left false b h = absurd (cc h)

link-taken : (j : AstType) → is_link_kind j ≡ true → is_taken j ≡ true
link-taken MemberExpression h = refl
link-taken CallExpression h = refl
link-taken _ h = absurd (cc h)

assigned-operand : (j : AstType) → is_assigned j ≡ true → is_pattern j ≡ false → is_operand j ≡ true
assigned-operand ObjectTarget h e = absurd (cc e)
assigned-operand ArrayTarget h e = absurd (cc e)
assigned-operand _ h e = h

assigned-taken : (j : AstType) → is_assigned j ≡ true → is_pattern j ≡ false → is_taken j ≡ true
assigned-taken j h e = or-left (is_operand j) (is_spread j) (assigned-operand j h e)

-- what stands in an expression of the core, but for the target of an assignment
part-taken : (k : AstType) (fs : Fields) (i : ℕ) (j : AstType) → (not (is_other k fs) && Operand k) ≡ true → (k ≡ AssignmentExpression → ⊥) → parts_fit k i j ≡ true → is_taken j ≡ true
part-taken AssignmentExpression fs i j h t p = absurd (t refl)
part-taken CallExpression fs i j h t p = p
part-taken NewExpression fs i j h t p = p
part-taken ChainExpression fs i j h t p = link-taken j p
part-taken Identifier fs i j h t p = or-left (is_operand j) (is_spread j) p
part-taken ThisExpression fs i j h t p = or-left (is_operand j) (is_spread j) p
part-taken NullLiteral fs i j h t p = or-left (is_operand j) (is_spread j) p
part-taken BooleanLiteral fs i j h t p = or-left (is_operand j) (is_spread j) p
part-taken NumericLiteral fs i j h t p = or-left (is_operand j) (is_spread j) p
part-taken BigIntLiteral fs i j h t p = or-left (is_operand j) (is_spread j) p
part-taken StringLiteral fs i j h t p = or-left (is_operand j) (is_spread j) p
part-taken UnaryExpression fs i j h t p = or-left (is_operand j) (is_spread j) p
part-taken UpdateExpression fs zero j h t p = or-left (is_operand j) (is_spread j) p
part-taken UpdateExpression fs (suc i) j h t p = absurd (cc p)
part-taken BinaryExpression fs i j h t p = or-left (is_operand j) (is_spread j) p
part-taken LogicalExpression fs i j h t p = or-left (is_operand j) (is_spread j) p
part-taken ConditionalExpression fs i j h t p = or-left (is_operand j) (is_spread j) p
part-taken SequenceExpression fs i j h t p = or-left (is_operand j) (is_spread j) p
part-taken MemberExpression fs i j h t p = or-left (is_operand j) (is_spread j) p
part-taken ParenthesizedExpression fs zero j h t p = or-left (is_operand j) (is_spread j) p
part-taken ParenthesizedExpression fs (suc i) j h t p = absurd (cc p)
part-taken _ fs i j h t p = absurd (cc h)

implied : (a b : Bool) → (not a || b) ≡ true → a ≡ true → b ≡ true
implied true b h e = h
implied false b h e = absurd (cc e)

-- what a node is made of
child-taken : (k : AstType) (fs : Fields) → (not (is_other k fs) && Operand k) ≡ true → (k ≡ AssignmentExpression → ⊥) → (i : ℕ) (u : Tree) → child_stands k i u ≡ true → (is_inner (kind_of u) ≡ true) × (is_taken (kind_of u) ≡ true)
child-taken k fs h t i u g =
    let c = child_parts k i u g in
    let d = and_parts (not (is_other k fs)) (Operand k) h in
    (c.inner (and_parts (is_inner k) (is_statement_kind k && is_taken k) d.1).0, part-taken k fs i (kind_of u) h t c.part)

operand-of : (k : AstType) (l : Label) (fs : Fields) → is_inner k ≡ true → is_taken k ≡ true → Fine (node k l fs) → Operand k ≡ true
operand-of k l fs e o fine = and_from (is_inner k) (is_statement_kind k && is_taken k) e (and_from (is_statement_kind k) (is_taken k) (standing k l fs fine).class o)

finished-so : (k : AstType) (l : Label) (fs : Fields) → is_inner k ≡ true → is_taken k ≡ true → Fine (node k l fs) → meant_node k l fs ≡ true → ((not (is_other k fs) && Operand k) ≡ true → fields_over is_meant_operand fs ≡ true) → stands_over is_meant_operand (node k l fs) ≡ true
finished-so k l fs e o fine meant below =
    let operand = operand-of k l fs e o fine in
    let s = standing k l fs fine in
    at (is_other k fs) refl
    (λ d. implied (is_other k fs && is_further_kind k) (is_meant_operand (node k l fs)) meant (and_from (is_other k fs) (is_further_kind k) d (further-so k fs (and_from (is_other k fs) (Operand k) d operand))))
    (λ d. let h = and_from (not (is_other k fs)) (Operand k) d operand in and_from (is_expression_node k fs) (fields_over is_meant_operand fs) (expression-so k fs h s.shape) (below h))
  where
    at : (b : Bool) → is_other k fs ≡ b → (is_other k fs ≡ true → is_meant_operand (node k l fs) ≡ true) → (not (is_other k fs) ≡ true → (is_expression_node k fs && fields_over is_meant_operand fs) ≡ true) → (if is_other k fs then is_meant_operand (node k l fs) else (is_expression_node k fs && fields_over is_meant_operand fs)) ≡ true
    at true q f g = ap (λ (b : Bool). if b then is_meant_operand (node k l fs) else (is_expression_node k fs && fields_over is_meant_operand fs)) q ∙ f q
    at false q f g = ap (λ (b : Bool). if b then is_meant_operand (node k l fs) else (is_expression_node k fs && fields_over is_meant_operand fs)) q ∙ g (ap not q)

not-false : (b : Bool) → not b ≡ true → b ≡ false
not-false true e = absurd (cc e)
not-false false e = refl

mutual
  pub meant-over : (t : Tree) → is_inner (kind_of t) ≡ true → is_taken (kind_of t) ≡ true → Fine t → all_nodes meant_node t ≡ true → stands_over is_meant_operand t ≡ true
  meant-over (node AssignmentExpression l (one t then (one r then done))) e o fine meant =
      let fs = one t then (one r then done) in
      let s = standing AssignmentExpression l fs fine in
      let m = and_parts (meant_node AssignmentExpression l fs) (all_in_fields meant_node fs) meant in
      let first = and_parts (child_stands AssignmentExpression 0 t) (child_stands AssignmentExpression 1 r && true) s.children in
      let second = and_parts (child_stands AssignmentExpression 1 r) true first.1 in
      let c = child_parts AssignmentExpression 0 t first.0 in
      let d = child_parts AssignmentExpression 1 r second.0 in
      let f = and_parts (all_nodes stands t) (all_nodes stands r && true) s.below in
      let n = and_parts (all_nodes meant_node t) (all_nodes meant_node r && true) m.1 in
      finished-so AssignmentExpression l fs e o fine m.0
      (λ h. and_from (stands_over is_meant_operand t) (stands_over is_meant_operand r && true) (meant-over t (c.inner refl) (assigned-taken (kind_of t) c.part (not-false (is_pattern (kind_of t)) (and_parts (not (is_pattern (kind_of t))) (Operand AssignmentExpression) h).0)) f.0 n.0)
      (and_from (stands_over is_meant_operand r) true (meant-over r (d.inner refl) (or-left (is_operand (kind_of r)) (is_spread (kind_of r)) d.part) (and_parts (all_nodes stands r) true f.1).0 (and_parts (all_nodes meant_node r) true n.1).0) refl))
  meant-over (node AssignmentExpression l fs) e o fine meant = absurd (let s = standing AssignmentExpression l fs fine in cc s.shape)
  meant-over (node k l fs) e o fine meant =
      let s = standing k l fs fine in
      let m = and_parts (meant_node k l fs) (all_in_fields meant_node fs) meant in
      finished-so k l fs e o fine m.0 (λ h. fields-meant fs (λ i. child_stands k i) (child-taken k fs h (λ x. cc x)) s.children s.below m.1)

  fields-meant : (fs : Fields) (p : ℕ → Tree → Bool) → ((i : ℕ) (u : Tree) → p i u ≡ true → (is_inner (kind_of u) ≡ true) × (is_taken (kind_of u) ≡ true)) → fields_pass p fs ≡ true → all_in_fields stands fs ≡ true → all_in_fields meant_node fs ≡ true → fields_over is_meant_operand fs ≡ true
  fields-meant done p t h fine meant = refl
  fields-meant (f then fs) p t h fine meant =
      let a = and_parts (field_passes (p zero) f) (fields_pass (λ i. p (suc i)) fs) h in
      let b = and_parts (all_in_field stands f) (all_in_fields stands fs) fine in
      let c = and_parts (all_in_field meant_node f) (all_in_fields meant_node fs) meant in
      and_from (field_over is_meant_operand f) (fields_over is_meant_operand fs) (field-meant f (p zero) (t zero) a.0 b.0 c.0) (fields-meant fs (λ i. p (suc i)) (λ i. t (suc i)) a.1 b.1 c.1)

  field-meant : (f : Field) (p : Tree → Bool) → ((u : Tree) → p u ≡ true → (is_inner (kind_of u) ≡ true) × (is_taken (kind_of u) ≡ true)) → field_passes p f ≡ true → all_in_field stands f ≡ true → all_in_field meant_node f ≡ true → field_over is_meant_operand f ≡ true
  field-meant missing p t h fine meant = refl
  field-meant (one u) p t h fine meant = let k = t u h in meant-over u k.0 k.1 fine meant
  field-meant (many ts) p t h fine meant = trees-meant ts p t h fine meant
  field-meant (statements ts) p t h fine meant = trees-meant ts p t h fine meant

  trees-meant : (ts : Trees) (p : Tree → Bool) → ((u : Tree) → p u ≡ true → (is_inner (kind_of u) ≡ true) × (is_taken (kind_of u) ≡ true)) → trees_pass p ts ≡ true → all_in_trees stands ts ≡ true → all_in_trees meant_node ts ≡ true → trees_over is_meant_operand ts ≡ true
  trees-meant empty p t h fine meant = refl
  trees-meant (u before ts) p t h fine meant =
      let k = t u (and_parts (p u) (trees_pass p ts) h).0 in
      let b = and_parts (all_nodes stands u) (all_in_trees stands ts) fine in
      let c = and_parts (all_nodes meant_node u) (all_in_trees meant_node ts) meant in
      and_from (stands_over is_meant_operand u) (trees_over is_meant_operand ts) (meant-over u k.0 k.1 b.0 c.0) (trees-meant ts p t (and_parts (p u) (trees_pass p ts) h).1 b.1 c.1)
