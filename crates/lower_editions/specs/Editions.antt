-- What the lowerings of the editions state of themselves.
use Rattle.es_tree.specs.declared.options.EnvOptions.{EnvOptions}
use Rattle.es_traverse.specs.Laws.{Ending, Profile, both_endings, both_profile, no_ending}
use Rattle.lower_chains.specs.Profiles.{chain_profile}
use Rattle.lower_exponentiation.specs.Profile.{exponentiation_profile}
use Rattle.lower_logical_assignment.specs.Profile.{logical_assignment_profile}
use Rattle.lower_namespace_exports.specs.Profile.{namespace_ending, namespace_profile}
use Rattle.lower_nullish_coalescing.specs.Profile.{nullish_coalescing_profile}
use Rattle.lower_object_spread.specs.Profile.{object_spread_profile}
use Rattle.lower_optional_catch.specs.Profile.{optional_catch_profile}
use Rattle.lower_rest_assignments.specs.Profile.{rest_assignment_profile}

-- nullish coalescing and then optional chaining
abbrev pub expressions_profile : EnvOptions → Profile
expressions_profile o = both_profile (nullish_coalescing_profile o) (chain_profile o)

-- and then exports of namespaces
abbrev pub es2020_profile : EnvOptions → Profile
es2020_profile o = both_profile (expressions_profile o) (namespace_profile o)

abbrev pub es2021_profile : EnvOptions → Profile
es2021_profile o = logical_assignment_profile o

abbrev pub es2016_profile : EnvOptions → Profile
es2016_profile o = exponentiation_profile o

-- object spread and then object rests in assignments
abbrev pub es2018_profile : EnvOptions → Profile
es2018_profile o = both_profile (object_spread_profile o) (rest_assignment_profile o)

abbrev pub es2019_profile : EnvOptions → Profile
es2019_profile o = optional_catch_profile o

-- AFTER THE PROGRAM

abbrev pub es2020_ending : EnvOptions → Ending
es2020_ending o = both_endings (both_endings no_ending no_ending) (namespace_ending o)

-- of object spread and object rests in assignments, which do nothing there
abbrev pub es2018_ending : Ending
es2018_ending = both_endings no_ending no_ending

-- of the last, which do nothing there either: catch clauses, then these two and then exponentiation
abbrev pub last_ending : Ending
last_ending = both_endings no_ending (both_endings es2018_ending no_ending)

-- of all
abbrev pub editions_ending : EnvOptions → Ending
editions_ending o = both_endings no_ending (both_endings (es2020_ending o) last_ending)
