-- The statements of a program, with two in the place of each export of a namespace.
use Rattle.std.specs.Prelude.{◌≡◌, ℕ, List, [], ◌∷◌, ◌++◌, false}
use Rattle.es_tree.specs.Fresh.{node_base}
use Rattle.es_tree.specs.Tree.{Tree, node, Label, done, ◌then◌, one, many, Trees, empty, ◌before◌}
use Rattle.es_tree.specs.declared.ast_type.AstType.TheVariants.{ExportAllDeclaration}
use Rattle.es_resolution.specs.Declarations.{Bound}
use Rattle.es_steps.specs.Duplication.{IsNext}
use Rattle.es_steps.specs.Nodes.{identifier}
use Rattle.es_changes.specs.Moments.{Moment, whole_at}
use Rattle.es_traverse.specs.Laws.{is_construct}
use Rattle.lower_temporaries.specs.SeenTrees.{IsSeenAs}
use Rattle.lower_temporaries.specs.Takings.{TakesBound}
use Rattle.lower_namespace_exports.specs.Exports.{export_of, import_of, is_lowerable_export}

-- An export becomes an import and an export of the next name of its base, with five nodes more.
pub record Splits (a : Moment) (t : Tree) (b : Moment) (i e : Tree) : Type 0 where
  pub label : Label
  pub exported : Tree
  pub source : Tree
  pub attributes : Trees
  pub is_export : t ≡ node ExportAllDeclaration label (one exported then one source then many attributes then done)
  pub name : Bound
  pub next : IsNext (whole_at a) (node_base exported) name
  pub takes : TakesBound name 5 a b
  -- the name as it is bound, and as it is exported
  pub local : Tree
  pub bound : IsSeenAs local (identifier name)
  pub read : Tree
  pub referred : IsSeenAs read (identifier name)
  pub first : ℕ
  pub import_is : i ≡ import_of label first local source attributes
  pub second : ℕ
  pub export_is : e ≡ export_of second read exported

-- a statement as it stays, or the two that an export becomes
pub data LowersOne : Moment → Tree → Moment → List Tree → Type 0 where
  stays : {a : Moment} {t : Tree} → is_construct is_lowerable_export t ≡ false → LowersOne a t a (t ∷ [])
  splits : {a b : Moment} {t i e : Tree} → Splits a t b i e → LowersOne a t b (i ∷ e ∷ [])

-- what a statement becomes stands behind these
pub record PutsLowered (a : Moment) (t : Tree) (b : Moment) (ts us : List Tree) : Type 0 where
  pub further : List Tree
  pub lowers : LowersOne a t b further
  pub put : us ≡ ts ++ further

-- each statement of a list, one after the other
pub data Lowered : Moment → Trees → Moment → Trees → Type 0 where
  none : {a : Moment} → Lowered a empty a empty
  kept : {a b : Moment} {t : Tree} {ts us : Trees} → is_construct is_lowerable_export t ≡ false → Lowered a ts b us → Lowered a (t before ts) b (t before us)
  split : {a b c : Moment} {t i e : Tree} {ts us : Trees} → Splits a t b i e → Lowered b ts c us → Lowered a (t before ts) c (i before (e before us))
