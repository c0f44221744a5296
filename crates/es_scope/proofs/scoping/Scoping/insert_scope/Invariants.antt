use Rattle.std.proofs.Common.{◌≡◌, take}
use Rattle.es_scope.specs.TableSettings.{InsertsScope, is_one_of}
use Rattle.es_scope.specs.Tables.{scope_count}
use Rattle.es_scope.proofs.scoping.Scoping.insert_scope.Given as goal

-- the new scope is there, and the children so far stand in it
abbrev pub invariant-loop-child : goal.invariant-loop-child
invariant-loop-child l = record {
  number : l.made.0 ≡ scope_count l.fn.self;
  inserted : InsertsScope l.fn.self l.self l.fn.parent.0 l.fn.flags (is_one_of (take l.child-index l.children));
}
