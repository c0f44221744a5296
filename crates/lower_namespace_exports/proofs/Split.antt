-- An export that was taken apart became an import and an export.
use Rattle.std.proofs.Common.{◌≡◌, ◌∙◌, ◌+◌, ℕ, ap, arith}
use Rattle.es_tree.specs.Fresh.{node_base}
use Rattle.es_tree.specs.Tree.{Tree, node, Label, done, ◌then◌, one, many, Trees, tree_size}
use Rattle.es_tree.specs.declared.ast_type.AstType.TheVariants.{ExportAllDeclaration}
use Rattle.es_scope.specs.declared.context.TraverseCtx.{TraverseCtx}
use Rattle.es_resolution.specs.Declarations.{Bound}
use Rattle.es_changes.specs.Moments.{Moment, whole_at}
use Rattle.es_traverse.specs.Laws.{Seen}
use Rattle.lower_temporaries.specs.Takings.{ReadsMore, TakesBound, moment_of}
use Rattle.lower_temporaries.specs.Temporaries.{TakesBoundName}
use Rattle.lower_temporaries.specs.declared.state.TransformState.{TransformState}
use Rattle.lower_namespace_exports.specs.Exports.{export_of, import_flags, import_of}
use Rattle.lower_namespace_exports.specs.Lowered.{Splits}
use Rattle.lower_namespace_exports.proofs.Weighed.{name-size}

-- ids beside a name that was bound
bound-reads : {x : Bound} {m n : ℕ} {a : Moment} (mid new : TraverseCtx TransformState) → TakesBound x m a (moment_of mid) → ReadsMore n mid new → TakesBound x (m + n) a (moment_of new)
bound-reads mid new t r = record {
  whole_is = ap whole_at r.moment_is ∙ t.whole_is;
  next_is = omega (arith, ap (λ x. x.next) r.moment_is, t.next_is);
  lists_are = ap (λ x. x.lists) r.moment_is ∙ t.lists_are;
  around_is = ap (λ x. x.around) r.moment_is ∙ t.around_is;
  options_are = ap (λ x. x.options) r.moment_is ∙ t.options_are;
}

pub split-made : (old mid copied new : TraverseCtx TransformState) (t : Tree) (label : Label) (exported source : Tree) (attributes : Trees) (local read i e : Tree) (first second : ℕ) →
    t ≡ node ExportAllDeclaration label (one exported then one source then many attributes then done) → TakesBoundName (node_base exported) 0 import_flags old mid local → Seen (λ u v. v ≡ u) local read → ReadsMore (tree_size local) mid copied → ReadsMore 3 copied new →
    i ≡ import_of label first local source attributes → e ≡ export_of second read exported → Splits (moment_of old) t (moment_of new) i e
split-made old mid copied new t label exported source attributes local read i e first second is taken copy more most import_is export_is =
    let small : tree_size local ≡ 1 = name-size local taken.name taken.stands in
    let all = bound-reads copied new (bound-reads mid copied taken.takes more) most in
    record {
      label = label;
      exported = exported;
      source = source;
      attributes = attributes;
      is_export = is;
      name = taken.name;
      next = taken.next;
      takes = record { whole_is = all.whole_is; next_is = omega (arith, all.next_is, small); lists_are = all.lists_are; around_is = all.around_is; options_are = all.options_are };
      local = local;
      bound = taken.stands;
      read = read;
      referred = λ names. copy names ∙ taken.stands names;
      first = first;
      import_is = import_is;
      second = second;
      export_is = export_is;
    }
