-- Whether a program has to import helpers, and why it can't.
use Rattle.std.specs.Prelude.{ℕ, [], ◌∷◌, Bool, ◌&&◌, ◌||◌, not, Option, None, is_some, bytes_eq, codes, option_map, if◌then◌else◌}
use Rattle.std.specs.Option.{option_or}
use Rattle.es_tree.specs.Constructs.{is_object_spread}
use Rattle.es_tree.specs.Names.{first_text}
use Rattle.es_tree.specs.Options.{is_external}
use Rattle.es_tree.specs.RestTargets.{is_rest_assignment}
use Rattle.es_tree.specs.Tree.{Tree, Label, Fields, label_of}
use Rattle.es_tree.specs.Walks.{any_node, first_node}
use Rattle.es_tree.specs.declared.ast_type.AstType.{AstType}
use Rattle.es_tree.specs.declared.error.UnsupportedKind.{UnsupportedKind}
use Rattle.es_tree.specs.declared.error.UnsupportedKind.TheVariants.{HelperName}
use Rattle.es_tree.specs.declared.options.EnvOptions.{EnvOptions}
use Rattle.es_semantic.specs.SymbolsOf.{find, symbols_of}
use Rattle.es_rest_shapes.specs.RestShapes.{is_rest_declaration}
use Rattle.es_helper_calls.specs.HelperCalls.{used_helper}

-- a node for which a helper copies: an object literal with a spread (ECMA-262, 13.2.5), a declaration of an object rest (14.3.3), or an assignment to one
-- (13.15.5)
abbrev pub needs_helper : AstType → Label → Fields → Bool
needs_helper k l fs = is_object_spread k l fs || is_rest_declaration k l fs || is_rest_assignment k l fs

-- a call of a helper, or one that hands one on
abbrev pub uses_helper : AstType → Label → Fields → Bool
uses_helper k l fs = is_some (used_helper k l fs)

-- A node that asks for a helper: one for which one copies, where that is lowered, and a use of one, where `using` was lowered, which makes such
-- calls.
abbrev pub asks_helper : EnvOptions → Bool → AstType → Label → Fields → Bool
asks_helper o made k l fs = (is_some o.es2018.object_rest_spread && needs_helper k l fs) || (made && uses_helper k l fs)

-- whether one stands, and helpers are imported
abbrev pub imports_helpers : EnvOptions → Bool → Tree → Bool
imports_helpers o made p = not (is_external o.helper_loader.mode) && any_node (asks_helper o made) p

-- the first use of a helper that a source itself makes, where helpers are imported
abbrev pub own_call : EnvOptions → Tree → Option ℕ
own_call o s = if is_external o.helper_loader.mode then None else first_node uses_helper s

-- whether a program is a module (16.2)
abbrev pub is_module : Tree → Bool
is_module p = bytes_eq (first_text (label_of p).texts) (codes "module")

-- a script whose own scope binds `require`, by which it would import them
abbrev pub binds_require : Tree → Bool
binds_require p = not (is_module p) && is_some (find (symbols_of p) (0 ∷ []) (codes "require"))

-- The first node at which a program can't import helpers, where its source makes this use: one that asks for a helper, where a script binds
-- `require`, or else that use.
abbrev pub unimported_where : EnvOptions → Bool → Option ℕ → Bool → Tree → Option ℕ
unimported_where o made own bound p = option_or (if bound then first_node (asks_helper o made) p else None) own

abbrev pub unimported : EnvOptions → Bool → Option ℕ → Tree → Option ℕ
unimported o made own p = if imports_helpers o made p then unimported_where o made own (binds_require p) p else None

abbrev pub first_unimported : EnvOptions → Bool → Option ℕ → Tree → Option (UnsupportedKind × ℕ)
first_unimported o made own p = option_map (λ n. (HelperName, n)) (unimported o made own p)
