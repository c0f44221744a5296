use Rattle.std.proofs.Common.{refl}
use Rattle.es_scope.proofs.TableSettings.{bound_below, outwards_set, scope_moved}
use Rattle.es_scope.proofs.scoping.Scoping.change_scope_parent_id.Goals as goal

pub invariant_of-self : goal.invariant_of-self
invariant_of-self c =
    let self = c.args.self.now in
    record {
      outwards = outwards_set self.scopes.items c.args.scope_id.0 _ c.args.parent c.requires.scope refl c.requires.inner c.requires.parent c.requires.outside self.outwards;
      bound = bound_below self.scopes.items c.args.scope_id.0 _ c.index_mut.result.now c.requires.scope c.index_mut.ensures.value self.symbols.items refl self.bound;
      written = self.written;
      referring = self.referring;
      rooted = self.rooted;
    }

pub returns : goal.returns
returns c = scope_moved c.args.self.now _ c.args.scope_id.0 _ c.index_mut.result.now c.args.parent c.requires.scope c.index_mut.ensures.value refl refl refl refl refl refl
