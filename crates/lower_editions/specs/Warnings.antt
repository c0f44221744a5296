-- What is warned of: what the options ask for that no lowering can take away.
use Rattle.std.specs.Prelude.{zero, suc, ℕ, List, [], ◌∷◌, Bool, true, false, ◌&&◌, Option, Some, None, option_map, if◌then◌else◌}
use Rattle.std.specs.List.{filter_map}
use Rattle.es_tree.specs.Ancestors.{Ancestor, visits}
use Rattle.es_tree.specs.Tree.{Tree, Label, kind_of, label_of}
use Rattle.es_tree.specs.declared.ast_type.AstType.{AstType}
use Rattle.es_tree.specs.declared.ast_type.AstType.TheVariants.{ImportSpecifier, ExportSpecifier, ExportAllDeclaration, BigIntLiteral, StringLiteral}
use Rattle.es_tree.specs.declared.options.ES2020Options.{ES2020Options}
use Rattle.lower_temporaries.specs.declared.warning.Warning.{Warning}
use Rattle.lower_temporaries.specs.declared.warning.WarningKind.{WarningKind}
use Rattle.lower_temporaries.specs.declared.warning.WarningKind.TheVariants.{BigInt, ModuleName}

-- whether this field of a node of this kind, counted from 0, holds a name of an import or an export (ECMA-262, 16.2):
-- `imported`, `local` and `exported` of a specifier, `exported` of `export *`
abbrev pub holds_module_name : AstType → ℕ → Bool
holds_module_name ImportSpecifier zero = true
holds_module_name ExportSpecifier zero = true
holds_module_name ExportSpecifier (suc zero) = true
holds_module_name ExportAllDeclaration zero = true
holds_module_name _ i = false

-- whether a node with these ancestors stands as such a name
abbrev pub is_module_name : List Ancestor → Bool
is_module_name [] = false
is_module_name (a ∷ up) = holds_module_name a.kind a.index

-- what the options ask to warn of at a node of this kind, which stands as such a name or not: a BigInt literal (12.9.3),
-- and a string that is a name
abbrev pub warning_kind : ES2020Options → Bool → AstType → Option WarningKind
warning_kind o named BigIntLiteral = if o.big_int then Some BigInt else None
warning_kind o named StringLiteral = if named && o.arbitrary_module_namespace_names then Some ModuleName else None
warning_kind o named _ = None

-- with its place in the source text
abbrev pub warning_at : ES2020Options → Bool → AstType → Label → Option Warning
warning_at o named k l = option_map (λ kind. record { kind = kind; span = record { start = l.start; end = l.stop } }) (warning_kind o named k)

-- the warnings that these options ask for, in node order
abbrev pub warnings_of : ES2020Options → Tree → List Warning
warnings_of o t = filter_map (λ v. warning_at o (is_module_name v.ancestors) (kind_of v.tree) (label_of v.tree)) (visits [] 0 t)
