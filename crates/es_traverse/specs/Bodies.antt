-- Open parts as a visit has them: what is pending for the body of an arrow that is an expression stands where such a body may.
use Rattle.std.specs.Prelude.{◌≡◌, ℕ, zero, suc, Bool, true}
use Rattle.es_steps.specs.Open.{Open, open_node, OpenFields, ends, ◌and◌, OpenField, gap, child, body, children, list, OpenTrees, nil, ◌next◌, flanked, is_body}

abbrev mutual
  pub BodiesStand : Open → Type 0
  BodiesStand (open_node k l fs) = BodiesStandIn (is_body k) fs

  pub BodiesStandIn : (ℕ → Bool) → OpenFields → Type 0
  BodiesStandIn bodies ends = Unit {0}
  BodiesStandIn bodies (f and fs) = BodiesStandBy (bodies zero) f × BodiesStandIn (λ i. bodies (suc i)) fs

  pub BodiesStandBy : Bool → OpenField → Type 0
  BodiesStandBy b gap = Unit {0}
  BodiesStandBy b (child t) = BodiesStand t
  BodiesStandBy b (body p t) = (b ≡ true) × BodiesStand t
  BodiesStandBy b (children ts) = BodiesStandAmong ts
  BodiesStandBy b (list p x a ts) = BodiesStandAmong ts

  pub BodiesStandAmong : OpenTrees → Type 0
  BodiesStandAmong nil = Unit {0}
  BodiesStandAmong (t next ts) = BodiesStand t × BodiesStandAmong ts
  BodiesStandAmong (flanked bs t cs ts) = BodiesStand t × BodiesStandAmong ts
