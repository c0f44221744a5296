use Rattle.std.proofs.Common.{refl, is_ok}
use Rattle.es_scope.proofs.TableSteps.{scope_more, outwards_pushed, bound_pushed}
use Rattle.es_scope.proofs.scoping.Scoping.add_scope.Goals as goal

pub invariant_of-self-clause-outwards : goal.invariant_of-self-clause-outwards
invariant_of-self-clause-outwards c = outwards_pushed c.args.self.now.scopes.items c.push.new.self.items _ c.args.parent (is_ok c.push.result) refl c.requires c.push.ensures.items c.args.self.now.outwards

pub invariant_of-self-clause-bound : goal.invariant_of-self-clause-bound
invariant_of-self-clause-bound c = bound_pushed c.args.self.now.scopes.items c.push.new.self.items c.args.self.now.symbols.items _ (is_ok c.push.result) c.new.ensures.empty c.push.ensures.items c.args.self.now.bound

pub returns-clause-added : goal.returns-clause-added
returns-clause-added c = scope_more _ _ (record { parent = _; flags = c.args.flags; bindings = c.new.result }) c.args.parent refl c.new.ensures.empty c.in_ok-push.ensures.items refl refl
