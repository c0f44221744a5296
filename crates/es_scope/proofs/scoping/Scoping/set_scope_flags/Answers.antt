use Rattle.std.proofs.Common.{refl}
use Rattle.es_scope.proofs.TableSettings.{bound_below, outwards_changed, scope_flags_set}
use Rattle.es_scope.proofs.scoping.Scoping.set_scope_flags.Goals as goal

pub invariant_of-self : goal.invariant_of-self
invariant_of-self c =
    let self = c.args.self.now in
    record {
      outwards = outwards_changed self.scopes.items c.args.scope_id.0 _ c.index_mut.result.now c.requires c.index_mut.ensures.value refl self.outwards;
      bound = bound_below self.scopes.items c.args.scope_id.0 _ c.index_mut.result.now c.requires c.index_mut.ensures.value self.symbols.items refl self.bound;
      written = self.written;
      referring = self.referring;
      rooted = self.rooted;
    }

pub returns : goal.returns
returns c = scope_flags_set c.args.self.now _ c.args.scope_id.0 _ c.index_mut.result.now c.requires c.index_mut.ensures.value refl refl refl refl refl
