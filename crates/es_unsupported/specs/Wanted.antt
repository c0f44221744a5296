-- The shapes that are looked for.
use Rattle.std.specs.Prelude.{◌≡◌, List, ◌&&◌, is_some, codes}
use Rattle.es_tree.specs.declared.options.EnvOptions.{EnvOptions}
use Rattle.es_semantic.specs.SymbolsOf.{Declared}
use Rattle.es_rest_shapes.specs.HelperNames.{binds_helpers, binds_name}
use Rattle.es_unsupported.specs.declared.shapes.Wanted.{Wanted}

-- Those that the options ask for are, and the two of names that are bound only where one of these symbols has the name.
pub record IsWanted (wanted : Wanted) (o : EnvOptions) (ds : List Declared) : Type 0 where
  pub math : wanted.math_bound ≡ (o.es2016.exponentiation_operator && binds_name (codes "Math") ds)
  pub helpers : wanted.helper_name ≡ (is_some o.es2018.object_rest_spread && binds_helpers ds)
  pub literals : wanted.spread_literal ≡ is_some o.es2018.object_rest_spread
  pub rests : wanted.stray_rest ≡ is_some o.es2018.object_rest_spread
  pub declarations : wanted.using_declaration ≡ o.es2026.explicit_resource_management
  pub arrows : wanted.arrows ≡ is_some o.es2015.arrow_function
  pub chains : wanted.tag_chain ≡ o.es2020.optional_chaining
