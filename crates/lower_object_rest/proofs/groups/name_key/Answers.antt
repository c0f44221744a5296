use Rattle.std.proofs.Common.{ap, arith, subst, sym, ◌∙◌}
use Rattle.es_tree.specs.Bare.{bare_label}
use Rattle.es_tree.specs.Heads.{head_of, label}
use Rattle.es_tree.specs.Tree.{Tree, done, node, one, ◌then◌}
use Rattle.es_tree.specs.declared.ast_type.AstType.TheVariants.{PatternProperty}
use Rattle.es_tree.specs.declared.kind.Kind.TheVariants.{PatternProperty as k-PatternProperty}
use Rattle.es_resolution.specs.Seen.{seen}
use Rattle.es_rest_rows.specs.RestRows.{keyed_by, names_key}
use Rattle.lower_temporaries.specs.SeenTrees.{no_bindings}
use Rattle.lower_temporaries.specs.Takings.{ReadsMore}
use Rattle.lower_object_rest.proofs.Costs.{size-name}
use Rattle.lower_object_rest.proofs.Declarators.{bound-read, seen-name}
use Rattle.lower_object_rest.proofs.Keys.{opens-property}
use Rattle.lower_object_rest.proofs.groups.name_key.Goals as goal

pub open-shorthand-requires : goal.open-shorthand-requires
open-shorthand-requires c = opens-property c.args.property c.requires.read

pub read_once_more-requires : goal.read_once_more-requires
read_once_more-requires c =
    let stored = c.in_ok-declarator.ensures in
    let size = size-name c.in_ok-declarator.name (seen-name c.in_ok-declarator.name stored.name (stored.read_is no_bindings)) in
    record { room = omega (arith, size, stored.takes.next_is, c.requires.room) }

pub returns : goal.returns
returns c =
    let x = c.open-shorthand.result in
    let l = label x.id x.span (head_of (k-PatternProperty x.shorthand x.computed)) in
    let stored = c.in_ok-declarator.ensures in
    let name = c.in_ok-declarator.name in
    let mid = c.store.new.ctx in
    let new = c.read_once_more.new.ctx in
    let again = subst (λ n. ReadsMore n mid new) (size-name name (seen-name name stored.name (stored.read_is no_bindings))) c.in_ok-element.ensures.reads in
    record {
      label = l;
      key = x.key;
      value = x.value;
      was = sym c.open-shorthand.ensures;
      name = stored.name;
      next = stored.next;
      declarator_is = λ names. stored.declarator_is names ∙ ap (λ (t : Tree). names_key stored.name (seen names t)) c.open-shorthand.ensures;
      property_is = λ names. ap (seen names) c.in_ok-property.ensures ∙ ((λ i. node PatternProperty (bare_label l) (one (stored.read_is names i) then one (seen names x.value) then done)) ∙ ap (λ (t : Tree). keyed_by stored.name (seen names t)) c.open-shorthand.ensures);
      element_is = λ names. c.in_ok-element.ensures.copy names ∙ stored.read_is names;
      takes = bound-read stored.name 3 1 c.args.ctx.now mid new stored.takes again;
    }
