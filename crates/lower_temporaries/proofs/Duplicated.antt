-- Duplication, step by step: the first use, and then one further use after another.
use Rattle.std.proofs.Common.{◌≡◌, ℕ, ◌+◌, ◌*◌, ◌<◌, ◌≤◌, zero, suc, Bool, true, false, List, [], ◌∷◌, ◌++◌, length, map, refl, sym, ap, ◌∙◌, subst, arith, Option}
use Rattle.std.proofs.Math.Nat.{add-mul, mul-le-mul_left}
use Rattle.std.proofs.lemmas.List.{map-append}
use Rattle.std.specs.Prelude.{is_some}
use Rattle.es_tree.specs.Tree.{Tree, tree_size}
use Rattle.es_tree.specs.Words.{Text}
use Rattle.es_scope.specs.declared.context.TraverseCtx.{TraverseCtx}
use Rattle.es_scope.specs.declared.context_names.BoundIdentifier.{BoundIdentifier}
use Rattle.es_resolution.specs.Declarations.{Bound}
use Rattle.es_resolution.specs.Seen.{seen}
use Rattle.es_runs.specs.Duplication.{duplicate_base}
use Rattle.es_runs.specs.Rules.{assign_node}
use Rattle.es_steps.specs.Duplication.{IsNext, is_among_symbols, is_read_again}
use Rattle.es_steps.specs.Duplication.IsDuplicated.{by_temporary, read_again}
use Rattle.es_steps.specs.Nodes.{identifier}
use Rattle.es_steps.specs.Open.{with_vars}
use Rattle.es_steps.specs.Steps.{Whole}
use Rattle.es_changes.specs.Moments.{whole_at}
use Rattle.lower_temporaries.specs.Declarators.{bound_as}
use Rattle.lower_temporaries.specs.Duplicates.{Duplicates, IsDuplicatedWhere, read_again_by, read_again_in, repeated}
use Rattle.lower_temporaries.specs.Duplicates.IsDuplicatedBy.{as_it_is, in_temporary}
use Rattle.lower_temporaries.specs.FurtherUses.{DuplicatedSoFar, read_by}
use Rattle.lower_temporaries.specs.Takings.{ReadsMore, WritesOnce, moment_of}
use Rattle.lower_temporaries.specs.UidVars.{DeclaresVar}
use Rattle.lower_temporaries.specs.declared.duplicate.Again.{Again}
use Rattle.lower_temporaries.specs.declared.duplicate.Again.TheVariants.{ByCopy, ByTemporary}
use Rattle.lower_temporaries.specs.declared.state.TransformState.{TransformState}
use Rattle.lower_temporaries.proofs.Pairs.{with_top-there}
use Rattle.lower_temporaries.proofs.ReadAgain.{read_again-small}
use Rattle.lower_temporaries.proofs.SeenLaws.{size-seen}
use Rattle.lower_temporaries.proofs.Takings.{reads-none, takes-none, takes-one, takes-reads}

-- THE FIRST USE

where-copied : (counts : Bool) (w : Whole) (e : Tree) → is_read_again (read_again_by counts w.steady) e ≡ true → IsDuplicatedWhere counts w [] e e e
where-copied true w e h = read_again h
where-copied false w e h = as_it_is h

where-stored : (counts : Bool) (w : Whole) (e : Tree) (x : Bound) → is_read_again (read_again_by counts w.steady) e ≡ false → IsNext w (duplicate_base e) x → IsDuplicatedWhere counts w (x ∷ []) e (assign_node (identifier x) e) (identifier x)
where-stored true w e x h next = by_temporary h next
where-stored false w e x h next = in_temporary h next

pub first-by-copy : (counts : Bool) (ctx : TraverseCtx TransformState) (e : Tree) → is_read_again (read_again_in counts ctx) e ≡ true → DuplicatedSoFar counts 0 ctx ctx e e ByCopy []
first-by-copy counts ctx e h = record {
  duplicates = record {
    made = [];
    again = e;
    is_duplicated = where-copied counts (whole_at (moment_of ctx)) e h;
    others_are = refl;
    ids = 0;
    takes = takes-none (reads-none ctx);
    counted = omega arith;
  };
  again_is = refl;
  small = read_again-small (read_again_in counts ctx) e h;
  next = omega arith;
}

pub first-by-temporary : (counts : Bool) (old mid new : TraverseCtx TransformState) (e first : Tree) (b : BoundIdentifier) → is_read_again (read_again_in counts old) e ≡ false → IsNext (whole_at (moment_of old)) (duplicate_base e) (bound_as b)
    → DeclaresVar old mid b → WritesOnce b.symbol_id.0 2 mid new → first ≡ assign_node (identifier (bound_as b)) e → DuplicatedSoFar counts 0 old new e first (ByTemporary b) []
first-by-temporary counts old mid new e first b h next declared w wrote =
    let x = bound_as b in
    let takes = takes-one old mid new b declared w in
    let size : tree_size first ≡ tree_size (assign_node (identifier x) e) = ap tree_size wrote in
    record {
      duplicates = record {
        made = x ∷ [];
        again = identifier x;
        is_duplicated = subst (λ u. IsDuplicatedWhere counts (whole_at (moment_of old)) (x ∷ []) e u (identifier x)) (sym wrote) (where-stored counts (whole_at (moment_of old)) e x h next);
        others_are = refl;
        ids = 4;
        takes = takes;
        counted = omega arith;
      };
      again_is = refl;
      small = omega arith;
      next = omega (arith, takes.next_is);
    }

-- FURTHER USES

repeated-more : (n : ℕ) (t : Tree) → repeated n t ++ t ∷ [] ≡ repeated (suc n) t
repeated-more zero t = refl
repeated-more (suc n) t = ap (λ (ts : List Tree). t ∷ ts) (repeated-more n t)

pub one-more : {counts : Bool} {n ids : ℕ} {old mid : TraverseCtx TransformState} {e first : Tree} {again : Again} {others : List Tree} (new : TraverseCtx TransformState) (u : Tree) → DuplicatedSoFar counts n old mid e first again others → u ≡ read_by first again
    → ReadsMore ids mid new → ids ≡ tree_size (read_by first again) → DuplicatedSoFar counts (n + 1) old new e first again (others ++ u ∷ [])
one-more {n = n} {ids = ids} {old = old} {mid = mid} {first = first} {again = again} {others = others} new u so is reads count =
    let d = so.duplicates in
    let same : u ≡ d.again = is ∙ sym so.again_is in
    let size : ids ≡ tree_size d.again = count ∙ ap tree_size (sym so.again_is) in
    let next : suc n ≡ n + 1 = omega arith in
    record {
      duplicates = record {
        made = d.made;
        again = d.again;
        is_duplicated = d.is_duplicated;
        others_are = subst (λ m. (others ++ u ∷ []) ≡ repeated m d.again) next (rw (d.others_are, same) (repeated-more n d.again));
        ids = d.ids + ids;
        takes = takes-reads mid new d.takes reads;
        counted = omega (arith, add-mul n 1 (tree_size d.again), d.counted, size);
      };
      again_is = so.again_is;
      small = so.small;
      next = omega (arith, so.next, so.small, ap (λ m. m.next) reads.moment_is, count);
    }

-- the nodes of a further use, as the code counts them
pub further-size : (names : ℕ → Text → Option ℕ) (first : Tree) (again : Again) → tree_size (read_by first again) ≡ tree_size (read_by (seen names first) again)
further-size names first ByCopy = sym (size-seen names first)
further-size names first (ByTemporary b) = refl

pub seen-pushed : (names : ℕ → Text → Option ℕ) (ts us : List Tree) (t : Tree) → us ≡ ts ++ t ∷ [] → map (seen names) us ≡ map (seen names) ts ++ seen names t ∷ []
seen-pushed names ts us t e = ap (map (seen names)) e ∙ map-append (seen names) ts (t ∷ [])

-- WHAT IS LEFT

few-ids : (counts : Bool) (w : Whole) (made : List Bound) (e first u : Tree) (n ids : ℕ) → IsDuplicatedWhere counts w made e first u → ids + tree_size e ≡ tree_size first + n * tree_size u + 2 * length made → ids ≤ 2 * n + 4
few-ids true w made e first u n ids (read_again h) counted =
    let small : n * tree_size e ≤ n * 2 = mul-le-mul_left n (read_again-small (is_among_symbols w.steady) e h) in
    omega arith
few-ids true w made e first u n ids (by_temporary h fresh) counted = omega arith
few-ids false w made e first u n ids (as_it_is h) counted =
    let small : n * tree_size e ≤ n * 2 = mul-le-mul_left n (read_again-small is_some e h) in
    omega arith
few-ids false w made e first u n ids (in_temporary h fresh) counted = omega arith

-- at most two ids for each further use, two for the declarator and two for the assignment
pub duplicates-next : {counts : Bool} {n : ℕ} {e first : Tree} {others : List Tree} (old new : TraverseCtx TransformState) → Duplicates counts n old new e first others → new.ast.next ≤ old.ast.next + 2 * n + 4
duplicates-next {counts = counts} {n = n} old new d = omega (arith, d.takes.next_is, few-ids counts (whole_at (moment_of old)) d.made _ _ d.again n d.ids d.is_duplicated d.counted)

-- a pair is still there
pub duplicates-there : {counts : Bool} {n : ℕ} {e first : Tree} {others : List Tree} (old new : TraverseCtx TransformState) → Duplicates counts n old new e first others → 0 < length old.state.var_declarations → 0 < length new.state.var_declarations
duplicates-there old new d h = with_top-there (with_vars d.made) old.state.var_declarations new.state.var_declarations d.takes.lists_are h
