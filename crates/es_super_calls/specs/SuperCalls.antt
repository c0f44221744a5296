-- Calls of `super` in a constructor (ECMA-262, 13.3.7.1). In that of a class that extends another there is no `this` before one of them is done:
-- `constructor(a) { f(a); super(a); g(this); }`.
use Rattle.std.specs.Prelude.{◌&&◌, ◌||◌, not, Bool, false}
use Rattle.es_tree.specs.Ancestors.{is_function}
use Rattle.es_tree.specs.HasForm.{same_type}
use Rattle.es_tree.specs.Tree.{Tree, node, Fields, done, ◌then◌, Field, missing, one, many, statements, Trees, empty, ◌before◌, kind_of}
use Rattle.es_tree.specs.declared.ast_type.AstType.TheVariants.{CallExpression, ExpressionStatement, Super}

-- A CALL, by the fields of a call: `super(a)`, and no `super.b(a)`
abbrev pub calls_it : Fields → Bool
calls_it (one f then fs) = same_type (kind_of f) Super
calls_it _ = false

abbrev pub is_super_call : Tree → Bool
is_super_call (node k l fs) = same_type k CallExpression && calls_it fs

-- one that is a statement
abbrev pub is_super_statement : Tree → Bool
is_super_statement (node ExpressionStatement l (one t then done)) = is_super_call t
is_super_statement _ = false

-- whether one stands in a tree, and in no function of it but arrows
abbrev mutual
  pub calls_super : Tree → Bool
  calls_super (node k l fs) = (same_type k CallExpression && calls_it fs) || (not (is_function k) && calls_super_in fs)

  pub calls_super_in : Fields → Bool
  calls_super_in done = false
  calls_super_in (f then fs) = calls_super_by f || calls_super_in fs

  pub calls_super_by : Field → Bool
  calls_super_by missing = false
  calls_super_by (one t) = calls_super t
  calls_super_by (many ts) = calls_super_among ts
  calls_super_by (statements ts) = calls_super_among ts

  pub calls_super_among : Trees → Bool
  calls_super_among empty = false
  calls_super_among (t before ts) = calls_super t || calls_super_among ts

-- in the parameters of a function, by its fields: there is no list to set a name in
abbrev pub calls_super_before : Fields → Bool
calls_super_before (f then (ps then fs)) = calls_super_by ps
calls_super_before _ = false
