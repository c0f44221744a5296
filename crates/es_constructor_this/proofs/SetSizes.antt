-- A tree becomes at most three times as large: where a call of `super` is followed, four nodes come to two at least, and to three where it is a statement.
use Rattle.std.proofs.Common.{◌≡◌, ◌≤◌, ℕ, zero, suc, refl, sym, subst, arith}
use Rattle.std.specs.Prelude.{Bool, true, false, ◌+◌, ◌*◌, ◌&&◌, Option, Some, None, if◌then◌else◌}
use Rattle.es_tree.specs.HasForm.{same_type}
use Rattle.es_tree.specs.Tree.{Tree, node, Label, Fields, done, ◌then◌, Field, missing, one, many, statements, Trees, empty, ◌before◌, field_size, fields_size, kind_of, tree_size, trees_size}
use Rattle.es_tree.specs.Words.{Text}
use Rattle.es_tree.specs.declared.ast_type.AstType.{AstType}
use Rattle.es_tree.specs.declared.ast_type.AstType.TheVariants.{ArrowFunctionExpression, CallExpression, ChainExpression, ExpressionStatement, FunctionBody, FunctionDeclaration, FunctionExpression, Program, StaticBlock, Super, VariableDeclaration, VariableDeclarator}
use Rattle.es_super_calls.specs.Constructors.{is_body, standing_in}
use Rattle.es_super_calls.specs.SuperCalls.{calls_it, is_super_call, is_super_statement}
use Rattle.es_super_calls.specs.declared.standing.ClassStanding.{ClassStanding}
use Rattle.es_set_this.specs.ConstructorThis.{after_super, after_super_among, after_super_in, in_arguments, is_closed, is_left, is_list, names_among, plain_name, set_behind, set_here, set_in_body, set_statement, set_statements, set_this, set_this_among, set_this_by, set_this_in, settled, then_set, this_name, up_to_super, with_this_set, without_value}
use Rattle.es_constructor_this.specs.Laws.{LawSetSize}
use Rattle.es_constructor_this.proofs.SuperSteps.{calls-same}

-- WHAT A TREE SPARES: each node two, but functions and bodies and what stands in them, which have taken theirs
abbrev mutual
  spare : Tree → ℕ
  spare (node k l fs) = if is_closed k then 0 else 2 + spare_in fs

  spare_in : Fields → ℕ
  spare_in done = 0
  spare_in (f then fs) = spare_by f + spare_in fs

  spare_by : Field → ℕ
  spare_by missing = 0
  spare_by (one t) = spare t
  spare_by (many ts) = spare_among ts
  spare_by (statements ts) = spare_among ts

  spare_among : Trees → ℕ
  spare_among empty = 0
  spare_among (t before ts) = spare t + spare_among ts

spare-node : (k : AstType) (l : Label) (fs : Fields) → spare (node k l fs) ≤ 2 + spare_in fs
spare-node k l fs = at (is_closed k)
  where
    at : (b : Bool) → (if b then 0 else 2 + spare_in fs) ≤ 2 + spare_in fs
    at true = omega arith
    at false = omega arith

-- WHAT IS FOLLOWED is such a call no more

module _ (x : Tree) where
  never-call : (t : Tree) → is_super_call (after_super x t) ≡ false
  never-call (node CallExpression l fs) = at (calls_it (after_super_in x false fs)) refl
    where
      gs : Fields
      gs = after_super_in x false fs

      at : (c : Bool) → calls_it gs ≡ c → is_super_call (if c then then_set x l gs else node CallExpression l gs) ≡ false
      at true e = refl
      at false e = e
  never-call (node ChainExpression l fs) = at (is_left ChainExpression fs)
    where
      at : (c : Bool) → is_super_call (if c then node ChainExpression l fs else node ChainExpression l (after_super_in x false fs)) ≡ false
      at true = refl
      at false = refl
  never-call (node k l fs) = refl

  never-statement : (t : Tree) → is_super_statement (after_super x t) ≡ false
  never-statement (node ExpressionStatement l done) = refl
  never-statement (node ExpressionStatement l (missing then fs)) = refl
  never-statement (node ExpressionStatement l (one t then done)) = never-call t
  never-statement (node ExpressionStatement l (one t then (f then fs))) = refl
  never-statement (node ExpressionStatement l (many ts then fs)) = refl
  never-statement (node ExpressionStatement l (statements ts then fs)) = refl
  never-statement (node CallExpression l fs) = at (calls_it (after_super_in x false fs))
    where
      gs : Fields
      gs = after_super_in x false fs

      at : (c : Bool) → is_super_statement (if c then then_set x l gs else node CallExpression l gs) ≡ false
      at true = refl
      at false = refl
  never-statement (node ChainExpression l fs) = at (is_left ChainExpression fs)
    where
      at : (c : Bool) → is_super_statement (if c then node ChainExpression l fs else node ChainExpression l (after_super_in x false fs)) ≡ false
      at true = refl
      at false = refl
  never-statement (node k l fs) = refl

-- CALLS THAT ARE FOLLOWED, by a name of one node

abbrev left : Bool → ℕ
left true = 2
left false = 0

-- what calls `super` leaves two
abbrev left_in : Fields → ℕ
left_in fs = left (calls_it fs)

module _ (x : Tree) (small : tree_size x ≡ 1) where
  set-size : (ts : Trees) → trees_size (with_this_set x ts) ≤ 4 + trees_size ts
  set-size empty = omega arith
  set-size (t before ts) = at (is_super_statement t) (set-size ts)
    where
      at : (b : Bool) → trees_size (with_this_set x ts) ≤ 4 + trees_size ts → trees_size (if b then t before (set_statement x before ts) else t before with_this_set x ts) ≤ 4 + (tree_size t + trees_size ts)
      at true h = omega (arith, small)
      at false h = omega (arith, h)

  settled-size : (k : AstType) (l : Label) (fs gs : Fields) → calls_it gs ≡ calls_it fs → fields_size gs + left_in fs ≤ fields_size fs + spare_in fs → tree_size (settled x k l gs) + left (same_type k Super) ≤ 3 + fields_size fs + spare_in fs
  settled-size CallExpression l fs gs same h = at (calls_it gs) (sym same)
    where
      at : (c : Bool) → calls_it fs ≡ c → tree_size (if c then then_set x l gs else node CallExpression l gs) + 0 ≤ 3 + fields_size fs + spare_in fs
      at true e = omega (arith, small, subst (λ (c : Bool). fields_size gs + left c ≤ fields_size fs + spare_in fs) e h)
      at false e = omega (arith, h)
  settled-size Super l fs gs same h = omega (arith, h)
  settled-size k l fs gs same h = omega (arith, h)

  chain-size : (l : Label) (fs : Fields) (c : Bool) → fields_size (after_super_in x false fs) + left_in fs ≤ fields_size fs + spare_in fs →
      tree_size (if c then node ChainExpression l fs else node ChainExpression l (after_super_in x false fs)) + 0 ≤ 3 + fields_size fs + spare_in fs
  chain-size l fs true h = omega arith
  chain-size l fs false h = omega (arith, h)

  statement-size : (t : Tree) (ts : Trees) (b : Bool) → is_super_statement t ≡ b → (b ≡ true → tree_size (in_arguments x t) + 4 ≤ tree_size t + spare t) → tree_size (after_super x t) ≤ tree_size t + spare t → trees_size (with_this_set x (up_to_super x ts)) ≤ trees_size ts + spare_among ts →
      trees_size (with_this_set x (if b then in_arguments x t before ts else after_super x t before up_to_super x ts)) ≤ tree_size t + trees_size ts + (spare t + spare_among ts)
  statement-size t ts true e a h r = omega (arith, at (is_super_statement (in_arguments x t)), a refl)
    where
      u : Tree
      u = in_arguments x t

      at : (b : Bool) → trees_size (if b then u before (set_statement x before ts) else u before with_this_set x ts) ≤ tree_size u + 4 + trees_size ts
      at true = omega (arith, small)
      at false = omega (arith, set-size ts)
  statement-size t ts false e a h r =
      subst (λ (b : Bool). trees_size (if b then after_super x t before (set_statement x before up_to_super x ts) else after_super x t before with_this_set x (up_to_super x ts)) ≤ tree_size t + trees_size ts + (spare t + spare_among ts)) (sym (never-statement x t)) (omega (arith, h, r))

  list-size : (lists : Bool) (ts : Trees) → trees_size (with_this_set x (up_to_super x ts)) ≤ trees_size ts + spare_among ts → trees_size (if lists then with_this_set x (up_to_super x ts) else ts) ≤ trees_size ts + spare_among ts
  list-size true ts h = h
  list-size false ts h = omega arith

  mutual
    after-size : (t : Tree) → tree_size (after_super x t) + left (same_type (kind_of t) Super) ≤ tree_size t + spare t
    after-size (node FunctionDeclaration l fs) = omega arith
    after-size (node FunctionExpression l fs) = omega arith
    after-size (node ArrowFunctionExpression l fs) = omega arith
    after-size (node FunctionBody l fs) = omega arith
    after-size (node StaticBlock l fs) = omega arith
    after-size (node Program l fs) = omega arith
    after-size (node ChainExpression l fs) = omega (arith, chain-size l fs (is_left ChainExpression fs) (in-size false fs))
    after-size (node CallExpression l fs) = omega (arith, settled-size CallExpression l fs (after_super_in x false fs) (calls-same x fs) (in-size false fs))
    after-size (node k l fs) = omega (arith, in-size (is_list k) fs)

    in-size : (lists : Bool) (fs : Fields) → fields_size (after_super_in x lists fs) + left_in fs ≤ fields_size fs + spare_in fs
    in-size lists done = omega arith
    in-size lists (missing then fs) = omega (arith, in-size lists fs)
    in-size lists (one t then fs) = omega (arith, after-size t, in-size lists fs)
    in-size lists (many ts then fs) = omega (arith, among-size ts, in-size lists fs)
    in-size lists (statements ts then fs) = omega (arith, list-size lists ts (up-size ts), in-size lists fs)

    among-size : (ts : Trees) → trees_size (after_super_among x ts) ≤ trees_size ts + spare_among ts
    among-size empty = omega arith
    among-size (t before ts) = omega (arith, after-size t, among-size ts)

    up-size : (ts : Trees) → trees_size (with_this_set x (up_to_super x ts)) ≤ trees_size ts + spare_among ts
    up-size empty = omega arith
    up-size (t before ts) = omega (arith, statement-size t ts (is_super_statement t) refl (λ e. arguments-size t e) (omega (arith, after-size t)) (up-size ts))

    arguments-size : (t : Tree) → is_super_statement t ≡ true → tree_size (in_arguments x t) + 4 ≤ tree_size t + spare t
    arguments-size (node ExpressionStatement l (one (node CallExpression m fs) then done)) e = omega (arith, subst (λ (c : Bool). fields_size (after_super_in x false fs) + left c ≤ fields_size fs + spare_in fs) e (in-size false fs))
    arguments-size (node ExpressionStatement l (one (node k m fs) then done)) e = absurd (cc e)
    arguments-size (node k l fs) e = absurd (cc e)

-- BODIES

value-size : (d : Tree) → tree_size (without_value d) ≤ tree_size d
value-size (node VariableDeclaration m (many (node VariableDeclarator k (f then (g then done)) before empty) then done)) = omega arith
value-size d = omega arith

module _ (made : Text → Bool) where
  behind-size : (o : Option Text) (d : Tree) (ts : Trees) → trees_size (set_behind o d ts) ≤ tree_size d + trees_size ts + spare_among ts
  behind-size None d ts = omega arith
  behind-size (Some y) d ts = at (names_among y ts)
    where
      at : (b : Bool) → trees_size (if b then d before ts else without_value d before with_this_set (plain_name y) (up_to_super (plain_name y) ts)) ≤ tree_size d + trees_size ts + spare_among ts
      at true = omega arith
      at false = omega (arith, value-size d, up-size (plain_name y) refl ts)

  statements-size : (ts : Trees) → trees_size (set_statements made ts) ≤ trees_size ts + spare_among ts
  statements-size empty = omega arith
  statements-size (d before ts) = omega (arith, behind-size (this_name made d) d ts)

  body-size : (fs : Fields) → fields_size (set_in_body made fs) ≤ fields_size fs + spare_in fs
  body-size (ds then (statements ts then done)) = omega (arith, statements-size ts)
  body-size fs = omega arith

  here-size : (s : ClassStanding) (k : AstType) (l : Label) (fs : Fields) → tree_size (node k l (set_here made s k fs)) + spare (node k l (set_here made s k fs)) ≤ 3 + fields_size fs + spare_in fs
  here-size s FunctionBody l fs = at (is_body s && same_type FunctionBody FunctionBody)
    where
      at : (b : Bool) → tree_size (node FunctionBody l (if b then set_in_body made fs else fs)) + 0 ≤ 3 + fields_size fs + spare_in fs
      at true = omega (arith, body-size fs)
      at false = omega arith
  here-size s k l fs = at (is_body s)
    where
      at : (b : Bool) →
          tree_size (node k l (if b && same_type k FunctionBody then set_in_body made fs else fs)) + spare (node k l (if b && same_type k FunctionBody then set_in_body made fs else fs)) ≤ 3 + fields_size fs + spare_in fs
      at true = omega (arith, spare-node k l fs)
      at false = omega (arith, spare-node k l fs)

  mutual
    tree-size : (s : ClassStanding) (t : Tree) → tree_size (set_this made s t) + spare (set_this made s t) ≤ 3 * tree_size t
    tree-size s (node k l fs) = omega (arith, here-size s k l (set_this_in made (standing_in s k l fs) fs), fields-size (standing_in s k l fs) fs)

    fields-size : (c : ℕ → ClassStanding) (fs : Fields) → fields_size (set_this_in made c fs) + spare_in (set_this_in made c fs) ≤ 3 * fields_size fs
    fields-size c done = omega arith
    fields-size c (f then fs) = omega (arith, field-size (c zero) f, fields-size (λ i. c (suc i)) fs)

    field-size : (s : ClassStanding) (f : Field) → field_size (set_this_by made s f) + spare_by (set_this_by made s f) ≤ 3 * field_size f
    field-size s missing = omega arith
    field-size s (one t) = tree-size s t
    field-size s (many ts) = trees-size s ts
    field-size s (statements ts) = trees-size s ts

    trees-size : (s : ClassStanding) (ts : Trees) → trees_size (set_this_among made s ts) + spare_among (set_this_among made s ts) ≤ 3 * trees_size ts
    trees-size s empty = omega arith
    trees-size s (t before ts) = omega (arith, tree-size s t, trees-size s ts)

pub law_set_size_proof : LawSetSize
law_set_size_proof made s t = omega (arith, tree-size made s t)
