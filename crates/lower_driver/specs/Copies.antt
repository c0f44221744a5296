-- Options that are the same.
use Rattle.std.specs.Prelude.{◌≡◌, string_bytes}
use Rattle.es_tree.specs.declared.options.EnvOptions.{EnvOptions}

-- each setting is the same, and the module's name has the same text
pub record IsCopy (o p : EnvOptions) : Type 0 where
  pub es2015 : p.es2015 ≡ o.es2015
  pub es2016 : p.es2016 ≡ o.es2016
  pub es2017 : p.es2017 ≡ o.es2017
  pub es2018 : p.es2018 ≡ o.es2018
  pub es2019 : p.es2019 ≡ o.es2019
  pub es2020 : p.es2020 ≡ o.es2020
  pub es2021 : p.es2021 ≡ o.es2021
  pub es2026 : p.es2026 ≡ o.es2026
  pub assumptions : p.assumptions ≡ o.assumptions
  pub mode : p.helper_loader.mode ≡ o.helper_loader.mode
  pub module_name : string_bytes p.helper_loader.module_name ≡ string_bytes o.helper_loader.module_name
