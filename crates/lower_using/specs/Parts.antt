-- What parts of a program become with one context, and the tests of places as the code has them: each of what stands in a node's fields.
use Rattle.std.specs.Prelude.{◌≡◌, ◌&&◌, Bool, false, true, List, [], ◌∷◌, Some, codes, ℕ}
use Rattle.es_tree.specs.Tree.{Tree, node, Label, Fields, done, ◌then◌, Field, one, many, statements, Trees, empty, ◌before◌}
use Rattle.es_tree.specs.Words.{Text}
use Rattle.es_tree.specs.declared.ast_type.AstType.{AstType}
use Rattle.es_tree.specs.declared.ast_type.AstType.TheVariants.{BlockStatement, EmptyStatement, FunctionBody, StaticBlock, VariableDeclaration, VariableDeclarator}
use Rattle.es_steps.specs.Nodes.{made}
use Rattle.es_steps.specs.UsingBlocks.{has_using}
use Rattle.es_steps.specs.UsingSwitches.{some_case_has_using}
use Rattle.es_pattern_moves.specs.Moved.{name_of}
use Rattle.es_using_rows.specs.UsingPlaces.{are_used, are_used_cases, have_values, is_used, leads_to_head, may_enter, standing_in, uses_in_list}
use Rattle.es_using_rows.specs.Used.{Makes, constants, plainly, used, used_among, used_by, used_cases, used_here, used_in, used_node}
use Rattle.es_using_rows.specs.declared.standing.Standing.{Standing}

-- WHAT IS MADE

-- with this one context
abbrev pub making : Text → Makes
making c = plainly (c ∷ [])

-- for a node of this id, of which nothing else is asked
abbrev pub of_id : ℕ → Tree
of_id i = node EmptyStatement (record (made [] []) { id = i }) done

-- `var x = e;`, with this id
abbrev pub variable_with : ℕ → Tree → Tree → Tree
variable_with i x e = node VariableDeclaration (record (made (Some (codes "var") ∷ []) []) { id = i }) (many (node VariableDeclarator (record (made [] []) { id = i }) (one x then one e then done) before empty) then done)

-- WHAT A PART BECOMES, with this context, whatever number it has
abbrev pub BecomesBy : {X Y : Type 0} → Text → (Makes → ℕ → X → Y) → X → Y → Type 0
BecomesBy c f x y = (names : List Text) (n : ℕ) → name_of names n ≡ c → f (plainly names) n x ≡ y

-- a node at which `using` is lowered, and one that may be
abbrev pub used_with : Standing → Makes → ℕ → Tree → Tree
used_with s m n (node k l fs) = used_node m s n k l fs

abbrev pub used_at : Standing → Makes → ℕ → Tree → ℕ × Tree
used_at s m n (node k l fs) = used_here m s n k l fs

-- with the standing first, as a walk has it
abbrev pub walked : Standing → Makes → ℕ → Tree → ℕ × Tree
walked s m n t = used m s n t

abbrev pub walked_in : AstType → Makes → ℕ → Fields → ℕ × Fields
walked_in k m n fs = used_in m (standing_in k) n fs

abbrev pub walked_by : Standing → Makes → ℕ → Field → ℕ × Field
walked_by s m n f = used_by m s n f

abbrev pub walked_among : Standing → Makes → ℕ → Trees → ℕ × Trees
walked_among s m n ts = used_among m s n ts

-- the fields of a `switch`, and of a case, with constants
abbrev pub with_cases : Makes → ℕ → Fields → Fields
with_cases m n (d then many cs then done) = d then many (used_cases m n cs) then done
with_cases m n fs = fs

abbrev pub with_constants : Makes → ℕ → Fields → Fields
with_constants m n (f then statements ts then done) = f then statements (constants m n ts) then done
with_constants m n fs = fs

-- a node, the fields of which become others so
abbrev pub with_fields : (Makes → ℕ → Fields → Fields) → Makes → ℕ → Tree → Tree
with_fields F m n (node k l fs) = node k l (F m n fs)

-- A BLOCK in which `using` is lowered
pub record UsesInBlock (t : Tree) : Type 0 where
  pub label : Label
  pub body : Trees
  pub tree : t ≡ node BlockStatement label (statements body then done)
  pub used : are_used body ≡ true

-- A BODY of a function in which it is
pub record UsesInBody (t : Tree) : Type 0 where
  pub label : Label
  pub directives : Trees
  pub body : Trees
  pub tree : t ≡ node FunctionBody label (many directives then statements body then done)
  pub used : are_used body ≡ true

-- A STATIC BLOCK of a class in which it is
pub record UsesInStaticBlock (t : Tree) : Type 0 where
  pub label : Label
  pub body : Trees
  pub tree : t ≡ node StaticBlock label (statements body then done)
  pub used : are_used body ≡ true

-- TESTS

-- a declarator's fields, what is declared and its value
abbrev pub holds_value : Fields → Bool
holds_value (one x then one e then done) = true
holds_value _ = false

abbrev pub some_have_values : Trees → Bool
some_have_values empty = false
some_have_values (d before ds) = have_values (d before ds)

-- those of a declaration, a list of declarators with values
abbrev pub hold_values : Fields → Bool
hold_values (many ds then done) = some_have_values ds
hold_values _ = false

-- those of a block
abbrev pub uses_in_block : Fields → Bool
uses_in_block (statements ts then done) = uses_in_list ts
uses_in_block _ = false

-- those of a body, which are its directives and its statements, where these are the parameters
abbrev pub uses_after_directives : Trees → Fields → Bool
uses_after_directives ps (many ds then statements ts then done) = uses_in_list ts && may_enter ps ts
uses_after_directives ps _ = false

-- those of a `switch`
abbrev pub uses_in_switch : Fields → Bool
uses_in_switch (d then many cs then done) = some_case_has_using cs && are_used_cases cs
uses_in_switch _ = false

-- those of a case
abbrev pub holds_using : Fields → Bool
holds_using (f then statements ts then done) = has_using ts
holds_using _ = false

abbrev pub holds_used : Fields → Bool
holds_used (f then statements ts then done) = are_used ts
holds_used _ = false

-- what stands in the head of a `for`
abbrev pub head_is_used : Field → Bool
head_is_used (one t) = is_used t
head_is_used _ = false

-- those of a label
abbrev pub leads_in_label : Fields → Bool
leads_in_label (one t then one u then done) = leads_to_head u
leads_in_label _ = false
