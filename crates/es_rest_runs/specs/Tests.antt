-- What form and static rules say of nodes of a program without functions, arrows and classes, as far as growing scopes ask: a declaration in the head of
-- for-in and for-of has one declarator, without a value (ECMA-262, 14.7.5), an export has a declaration (16.2.3), `using` declares no pattern (14.3.1), and
-- blocks, loops by `for` and `switch` have their fields.
use Rattle.std.specs.Prelude.{ℕ, zero, suc, Bool, true, false, not, ◌&&◌, codes}
use Rattle.es_tree.specs.Names.{first_text}
use Rattle.es_tree.specs.StaticRules.{has_pattern, is_lone_declarator}
use Rattle.es_tree.specs.Tree.{Tree, node, Label, Fields, done, ◌then◌, Field, missing, one, many, statements, Trees, empty, ◌before◌}
use Rattle.es_tree.specs.declared.ast_type.AstType.{AstType}
use Rattle.es_tree.specs.declared.ast_type.AstType.TheVariants.{BlockStatement, ExportNamedDeclaration, ForInStatement, ForOfStatement, ForStatement, SwitchStatement, VariableDeclaration}
use Rattle.es_statement_runs.specs.Names.{is_word}

-- a test of what stands in the fields of a node, by their number
abbrev pub trees_pass : (Tree → Bool) → Trees → Bool
trees_pass c empty = true
trees_pass c (t before ts) = c t && trees_pass c ts

abbrev pub field_passes : (Tree → Bool) → Field → Bool
field_passes c missing = true
field_passes c (one t) = c t
field_passes c (many ts) = trees_pass c ts
field_passes c (statements ts) = trees_pass c ts

abbrev pub fields_pass : (ℕ → Tree → Bool) → Fields → Bool
fields_pass c done = true
fields_pass c (f then fs) = field_passes (c zero) f && fields_pass (λ i. c (suc i)) fs

abbrev pub lone_head : Tree → Bool
lone_head (node VariableDeclaration l (many ds then fs)) = is_lone_declarator ds
lone_head t = true

abbrev pub exports_declaration : Tree → Bool
exports_declaration (node VariableDeclaration l fs) = true
exports_declaration t = false

abbrev pub head_alone : AstType → ℕ → Tree → Bool
head_alone ForInStatement zero t = lone_head t
head_alone ForOfStatement zero t = lone_head t
head_alone ExportNamedDeclaration zero t = exports_declaration t
head_alone k i t = true

abbrev pub sized : AstType → Fields → Bool
sized BlockStatement (statements ts then done) = true
sized BlockStatement fs = false
sized ForStatement (f then (g then (h then (i then done)))) = true
sized ForStatement fs = false
sized SwitchStatement (one t then (many cs then done)) = true
sized SwitchStatement fs = false
sized k fs = true

-- `using` declares no pattern (14.3.1)
abbrev pub using_fine : AstType → Label → Fields → Bool
using_fine VariableDeclaration l (many ds then fs) = not (is_word (codes "using") (first_text l.texts) && has_pattern ds)
using_fine k l fs = true

abbrev pub tested : AstType → Label → Fields → Bool
tested k l fs = (sized k fs && using_fine k l fs) && fields_pass (head_alone k) fs
