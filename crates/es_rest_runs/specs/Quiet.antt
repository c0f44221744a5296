-- Open programs with nothing pending.
use Rattle.std.specs.Prelude.{◌≡◌, None}
use Rattle.es_steps.specs.Open.{no_additions, nothing_pending, Open, open_node, OpenFields, ends, ◌and◌, OpenField, gap, child, body, children, list, OpenTrees, nil, ◌next◌, flanked}

abbrev mutual
  pub IsQuiet : Open → Type 0
  IsQuiet (open_node k l fs) = AreQuietFields fs

  pub AreQuietFields : OpenFields → Type 0
  AreQuietFields ends = Unit {0}
  AreQuietFields (f and fs) = IsQuietField f × AreQuietFields fs

  pub IsQuietField : OpenField → Type 0
  IsQuietField gap = Unit {0}
  IsQuietField (child t) = IsQuiet t
  IsQuietField (body p t) = (p ≡ nothing_pending) × IsQuiet t
  IsQuietField (children ts) = AreQuietTrees ts
  IsQuietField (list p x a ts) = (p ≡ nothing_pending) × (x ≡ None) × (a ≡ no_additions) × AreQuietTrees ts

  pub AreQuietTrees : OpenTrees → Type 0
  AreQuietTrees nil = Unit {0}
  AreQuietTrees (t next ts) = IsQuiet t × AreQuietTrees ts
  AreQuietTrees (flanked bs t cs ts) = ⊥
