-- The laws of programs that are taken.
use Rattle.std.specs.Prelude.{◌≡◌, true, false, None, is_some}
use Rattle.es_tree.specs.HasForm.{has_form}
use Rattle.es_tree.specs.Tree.{Tree}
use Rattle.es_tree.specs.Walks.{any_node}
use Rattle.es_tree.specs.declared.options.EnvOptions.{EnvOptions}
use Rattle.es_tree.specs.declared.table.Sort.TheVariants.{Program as s-Program}
use Rattle.es_semantic.specs.SymbolsOf.{symbols_of}
use Rattle.es_rest_shapes.specs.HelperNames.{binds_helpers}
use Rattle.es_rest_shapes.specs.RestShapes.{is_rest_declaration, is_stray_rest}
use Rattle.es_valid_arrows.specs.ArrowPlaces.{fits_arrows}
use Rattle.es_unsupported.specs.FirstUnsupported.{first_unsupported}
use Rattle.es_unsupported.specs.Shapes.{is_unbuilt_node}

-- Where arrows are to become functions, each arrow of such a program can.
abbrev pub LawArrowsTaken : Type 0
LawArrowsTaken = (o : EnvOptions) (p : Tree) → is_some o.es2015.arrow_function ≡ true → first_unsupported o p ≡ None → fits_arrows o p ≡ true

-- No construct stands in it that no lowering takes.
abbrev pub LawBuilt : Type 0
LawBuilt = (o : EnvOptions) (p : Tree) → first_unsupported o p ≡ None → any_node (is_unbuilt_node o) p ≡ false

-- Where object rests are taken, none stands in it where it isn't lowered, if it has form;
abbrev pub LawStraysTaken : Type 0
LawStraysTaken = (o : EnvOptions) (p : Tree) → is_some o.es2018.object_rest_spread ≡ true → has_form s-Program p ≡ true → first_unsupported o p ≡ None → any_node is_stray_rest p ≡ false

-- and where one is declared, it binds no `babelHelpers`.
abbrev pub LawHelpersFree : Type 0
LawHelpersFree = (o : EnvOptions) (p : Tree) → is_some o.es2018.object_rest_spread ≡ true → first_unsupported o p ≡ None → any_node is_rest_declaration p ≡ true → binds_helpers (symbols_of p) ≡ false
