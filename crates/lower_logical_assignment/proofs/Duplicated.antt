-- What of a target is read and then written.
use Rattle.std.proofs.Common.{◌≡◌, ◌≤◌, ◌+◌, ◌*◌, ℕ, List, [], ◌∷◌, ◌++◌, length, length-append, refl, sym, ap, subst, arith, Option}
use Rattle.std.specs.Prelude.{Bool, true, false}
use Rattle.es_tree.specs.Tree.{Tree, node, done, ◌then◌, one, many, empty, ◌before◌, tree_size}
use Rattle.es_tree.specs.Words.{Text}
use Rattle.es_tree.specs.declared.ast_type.AstType.TheVariants.{BigIntLiteral, BooleanLiteral, Identifier, MemberExpression, NullLiteral, NumericLiteral, StringLiteral, Super, TemplateElement, TemplateLiteral, ThisExpression}
use Rattle.es_scope.specs.declared.context.TraverseCtx.{TraverseCtx}
use Rattle.es_resolution.specs.Declarations.{Bound, symbol_of}
use Rattle.es_resolution.specs.Seen.{seen}
use Rattle.es_runs.specs.Rules.{member_node}
use Rattle.es_steps.specs.Duplication.{IsDuplicated, is_among_symbols, is_read_again}
use Rattle.es_steps.specs.Duplication.IsDuplicated.{by_temporary, read_again}
use Rattle.es_steps.specs.Rules.{with_made}
use Rattle.es_steps.specs.Steps.{Whole}
use Rattle.es_steps.proofs.Duplicates.{never-and}
use Rattle.es_changes.specs.Moments.{whole_at}
use Rattle.es_traverse.specs.Loads.{load}
use Rattle.lower_temporaries.specs.Duplicates.{Duplicates}
use Rattle.lower_temporaries.specs.Takings.{ReadsMore, moment_of}
use Rattle.lower_temporaries.specs.declared.state.TransformState.{TransformState}
use Rattle.lower_temporaries.proofs.Takings.{takes-none, takes-reads, takes-then}
use Rattle.lower_temporaries.specs.Shapes.{is_name}
use Rattle.lower_logical_assignment.specs.Targets.{DuplicatesMember, DuplicatesOnce, DuplicatesTarget}
use Rattle.lower_logical_assignment.specs.Targets.TwiceTarget.{twice_computed, twice_name, twice_static}

-- AN EXPRESSION DOUBLED

-- what is read again is two nodes at most, of which nothing can be made
again-load : (again : Option ℕ → Bool) (e : Tree) → is_read_again again e ≡ true → (load e ≤ 2) × (tree_size e ≡ load e)
again-load again (node Identifier l done) h = (omega arith, refl)
again-load again (node ThisExpression l done) h = (omega arith, refl)
again-load again (node Super l done) h = (omega arith, refl)
again-load again (node NullLiteral l done) h = (omega arith, refl)
again-load again (node BooleanLiteral l done) h = (omega arith, refl)
again-load again (node NumericLiteral l done) h = (omega arith, refl)
again-load again (node BigIntLiteral l done) h = (omega arith, refl)
again-load again (node StringLiteral l done) h = (omega arith, refl)
again-load again (node TemplateLiteral l (many (node TemplateElement m done before empty) then (many empty then done))) h = (omega arith, refl)
again-load again (node Identifier l (f then fs)) h = absurd (never-and (again (symbol_of l)) h)
again-load again (node _ l fs) h = absurd (cc h)

few : (w : Whole) (xs : List Bound) (e begin further : Tree) (ids : ℕ) → IsDuplicated w xs e begin further → ids + tree_size e ≡ tree_size begin + tree_size further + 2 * length xs → (ids ≤ 5) × (ids + 4 * length xs + load begin + load further ≤ load e + 12)
few w xs e begin further ids (read_again h) counted = let x = again-load (is_among_symbols w.steady) e h in (omega (arith, counted, x.0, x.1), omega (arith, counted, x.0, x.1))
few w xs e begin further ids (by_temporary h next) counted = (omega (arith, counted), omega (arith, counted))

abbrev first_of : List Tree → Tree → Tree
first_of [] u = u
first_of (t ∷ ts) u = t

pub duplicated-once : (old new : TraverseCtx TransformState) (e begin again : Tree) → Duplicates true 1 old new e begin (again ∷ []) → DuplicatesOnce old new e begin again
duplicated-once old new e begin again d =
    let same : again ≡ d.again = ap (λ ts. first_of ts again) d.others_are in
    let counted : d.ids + tree_size e ≡ tree_size begin + tree_size again + 2 * length d.made = omega (arith, d.counted, ap tree_size same) in
    let twice : IsDuplicated (whole_at (moment_of old)) d.made e begin again = subst (λ u. IsDuplicated (whole_at (moment_of old)) d.made e begin u) (sym same) d.is_duplicated in
    let bounds = few (whole_at (moment_of old)) d.made e begin again d.ids twice counted in
    record { made = d.made; ids = d.ids; is_duplicated = twice; takes = d.takes; few = bounds.0; counted = counted; lighter = bounds.1 }

-- A TARGET

pub name-size : (t : Tree) → is_name t ≡ true → tree_size t ≡ 1
name-size (node Identifier l done) h = refl
name-size (node Identifier l (f then fs)) h = absurd (cc h)
name-size (node _ l fs) h = absurd (cc h)

pub duplicated-name : (old new : TraverseCtx TransformState) (names : ℕ → Text → Option ℕ) (t read : Tree) → is_name t ≡ true → seen names read ≡ seen names t → ReadsMore (tree_size t + 0) old new → DuplicatesTarget old new (seen names t) (seen names read) (seen names t)
duplicated-name old new names (node Identifier l done) read h is reads =
    subst (λ u. DuplicatesTarget old new (seen names (node Identifier l done)) u (seen names (node Identifier l done))) (sym is) (record {
      made = [];
      ids = 1;
      twice = twice_name;
      takes = takes-none reads;
      few = omega arith;
      nodes = omega arith;
      lighter = omega arith;
    })
duplicated-name old new names (node Identifier l (f then fs)) read h is reads = absurd (cc h)
duplicated-name old new names (node _ l fs) read h is reads = absurd (cc h)

pub duplicated-static : (old mid new : TraverseCtx TransformState) (names : ℕ → Text → Option ℕ) (o begin again key : Tree) (read written : Tree) → DuplicatesOnce old mid o begin again → is_name key ≡ true → ReadsMore 3 mid new → read ≡ member_node false begin (seen names key) → written ≡ member_node false again (seen names key) →
    DuplicatesMember false old new o (seen names key) read written
duplicated-static old mid new names o begin again (node Identifier k done) read written d h more reads writes l flags =
    let key = seen names (node Identifier k done) in
    subst (λ u. DuplicatesTarget old new (node MemberExpression l (one o then (one key then done))) read u) (sym writes)
    (subst (λ u. DuplicatesTarget old new (node MemberExpression l (one o then (one key then done))) u (member_node false again key)) (sym reads) (record {
      made = d.made;
      ids = d.ids + 3;
      twice = twice_static flags d.is_duplicated;
      takes = takes-reads mid new d.takes more;
      few = omega (arith, d.few);
      nodes = omega (arith, d.counted);
      lighter = omega (arith, d.lighter);
    }))
duplicated-static old mid new names o begin again (node Identifier k (f then fs)) read written d h more reads writes l flags = absurd (cc h)
duplicated-static old mid new names o begin again (node _ k fs) read written d h more reads writes l flags = absurd (cc h)

pub duplicated-computed : (old mid next new : TraverseCtx TransformState) (o begin again key key_begin key_again : Tree) (read written : Tree) → DuplicatesOnce old mid o begin again → DuplicatesOnce mid next key key_begin key_again → ReadsMore 2 next new →
    read ≡ member_node true begin key_begin → written ≡ member_node true again key_again → DuplicatesMember true old new o key read written
duplicated-computed old mid next new o begin again key key_begin key_again read written d k more reads writes l flags =
    let both = length-append d.made k.made in
    let later : IsDuplicated (with_made d.made (whole_at (moment_of old))) k.made key key_begin key_again = subst (λ (w : Whole). IsDuplicated w k.made key key_begin key_again) d.takes.whole_is k.is_duplicated in
    subst (λ u. DuplicatesTarget old new (node MemberExpression l (one o then (one key then done))) read u) (sym writes)
    (subst (λ u. DuplicatesTarget old new (node MemberExpression l (one o then (one key then done))) u (member_node true again key_again)) (sym reads) (record {
      made = d.made ++ k.made;
      ids = d.ids + (k.ids + 2);
      twice = twice_computed flags d.is_duplicated later;
      takes = takes-then d.takes (takes-reads next new k.takes more);
      few = omega (arith, d.few, k.few);
      nodes = omega (arith, d.counted, k.counted, both);
      lighter = omega (arith, d.lighter, k.lighter, both);
    }))
