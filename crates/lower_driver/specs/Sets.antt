-- What a source becomes at the very end, where arrows became functions: in the constructors of its classes that extend others the name for `this` is
-- set behind `super(..)`.
use Rattle.std.specs.Prelude.{◌≡◌, ◌&&◌, Bool, List, false, is_some, true}
use Rattle.es_tree.specs.Fresh.{is_among}
use Rattle.es_tree.specs.Tree.{Tree}
use Rattle.es_tree.specs.Walks.{any_node}
use Rattle.es_tree.specs.Words.{Text}
use Rattle.es_tree.specs.declared.options.EnvOptions.{EnvOptions}
use Rattle.es_set_this.specs.ConstructorThis.{set_this}
use Rattle.es_super_calls.specs.Constructors.{is_derived_class}
use Rattle.es_super_calls.specs.declared.standing.ClassStanding.TheVariants.{Elsewhere}

-- whether such a class stands where arrows are lowered
abbrev pub sets_this : EnvOptions → Tree → Bool
sets_this o p = is_some o.es2015.arrow_function && any_node is_derived_class p

-- Where one does, such names are set of those that were made; else the program stays as it is.
pub record Sets (on : Bool) (made : List Text) (imported written : Tree) : Type 0 where
  pub goes : on ≡ true → written ≡ set_this (is_among made) Elsewhere imported
  pub stays : on ≡ false → written ≡ imported
