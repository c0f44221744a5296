use Rattle.std.proofs.Common.{◌≡◌, ◌≤◌, Some, length, sym, subst}
use Rattle.es_tree.specs.Tree.{Tree, trees}
use Rattle.std.specs.Prelude.{Option}
use Rattle.lower_writing.specs.Lists.{imports_before}
use Rattle.lower_writing.proofs.ImportPlaces.{imports-within}
use Rattle.lower_arrows.specs.Names.{IsName}
use Rattle.lower_arrows.proofs.Lists.{Declared, name-declared, none-declared}
use Rattle.lower_arrows.proofs.declarations.declare.Goals as goal

pub returns-in_default-clause-declared : goal.returns-in_default-clause-declared
returns-in_default-clause-declared c =
    let ts = trees c.args.statements.now.items in
    subst (λ (x : Option Tree). Declared x ts ts) (sym c.in_default.is) (none-declared ts)

pub put_at-requires : goal.put_at-requires
put_at-requires c =
    let ts = c.args.statements.now.items in
    let place : c.imports_before-place.result ≡ imports_before ts = cc (c.imports_before-place.ensures, c.deref.ensures.value) in
    subst (λ k. k ≤ length ts) (sym place) (imports-within ts)

pub returns-clause-declared : goal.returns-clause-declared
returns-clause-declared c =
    let ts = c.args.statements.now.items in
    let us = c.put_at.new.statements.items in
    let place : c.imports_before-place.result ≡ imports_before ts = cc (c.imports_before-place.ensures, c.deref.ensures.value) in
    let named : IsName (Some c.in-Some.name) = subst (λ (x : Option Tree). IsName x) c.in-Some.is c.requires.named in
    subst (λ (x : Option Tree). Declared x (trees ts) (trees us)) (sym c.in-Some.is) (name-declared c.in-Some.name c.in_ok-declaration.declaration ts us c.imports_before-place.result named (λ names. cc (c.in_ok-declaration.ensures.made names, c.in-Some.name-is)) place c.in_ok-put_at.ensures)
