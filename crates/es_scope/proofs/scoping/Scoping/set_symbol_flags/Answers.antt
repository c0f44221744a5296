use Rattle.std.proofs.Common.{refl, arith}
use Rattle.es_scope.proofs.ChangedItems.{length_changed}
use Rattle.es_scope.proofs.TableSettings.{bound_alike, symbol_flags_set, written_same}
use Rattle.es_scope.proofs.scoping.Scoping.set_symbol_flags.Goals as goal

pub invariant_of-self : goal.invariant_of-self
invariant_of-self c =
    let self = c.args.self.now in
    record {
      outwards = self.outwards;
      bound = bound_alike self.symbols.items c.args.symbol_id.0 _ c.index_mut.result.now c.requires c.index_mut.ensures.value self.scopes.items refl refl self.bound;
      written = written_same self.symbols.items c.args.symbol_id.0 _ c.index_mut.result.now c.requires c.index_mut.ensures.value self.references.items refl self.written;
      referring = λ n m e. omega (arith, self.referring n m e, length_changed self.symbols.items c.args.symbol_id.0 (record c.index_mut.result.now { flags = c.args.flags }));
      rooted = self.rooted;
    }

pub returns : goal.returns
returns c = symbol_flags_set c.args.self.now _ c.args.symbol_id.0 _ c.index_mut.result.now c.requires c.index_mut.ensures.value refl refl refl refl refl refl
