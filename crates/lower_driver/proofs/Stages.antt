-- What a source becomes by all lowerings, stage after stage: its exports of object rests are split, its `using` moves out of heads of loops and is lowered, at last at the top of a module, patterns with a rest move,
-- constructs are lowered where they stand, lists of excluded keys are shared, helpers are imported, and names for `this` are set. And why it is refused: for what is found in it before constructs are lowered where they
-- stand.
use Rattle.std.proofs.Common.{◌≡◌, ◌∙◌, ◌*◌, ◌+◌, ◌≤◌, ◌++◌, List, [], ◌∷◌, Option, ℕ, ap, arith, refl, subst, sym, true≢false}
use Rattle.std.specs.Prelude.{Bool, true, false, ◌&&◌, Err, IfErr, IsErrAnd, None, Ok, Result, is_some, not, string_bytes, if◌then◌else◌}
use Rattle.es_tree.specs.Constructs.{has_enabled_construct, is_object_rest, is_using}
use Rattle.es_tree.specs.Core.{IsCoreProgram}
use Rattle.es_tree.specs.HasForm.{has_form}
use Rattle.es_tree.specs.Options.{is_external}
use Rattle.es_tree.specs.StaticRules.{breaks}
use Rattle.es_tree.specs.Tree.{Tree, node, tree_size}
use Rattle.es_tree.specs.Walks.{any_node, first_node}
use Rattle.es_tree.specs.Words.{Text}
use Rattle.es_tree.specs.declared.error.LowerError.{LowerError}
use Rattle.es_tree.specs.declared.error.LowerError.TheVariants.{OutOfMemory, Unsupported}
use Rattle.es_tree.specs.declared.error.UnsupportedKind.{UnsupportedKind}
use Rattle.es_tree.specs.declared.options.EnvOptions.{EnvOptions}
use Rattle.es_tree.specs.declared.table.Sort.TheVariants.{Program as s-Program}
use Rattle.es_semantic.specs.SymbolsOf.{symbols_of}
use Rattle.es_rest_shapes.specs.HelperNames.{binds_helpers}
use Rattle.es_pattern_moves.specs.Moved.{plainly}
use Rattle.es_pattern_moves.specs.Weights.{weighed}
use Rattle.es_pattern_moves.proofs.MovedSize.{law_moved_size_proof}
use Rattle.es_excluded_keys.specs.ExcludedKeys.{names_itself, shares_keys}
use Rattle.es_helper_imports.specs.Imported.{ImportsTo}
use Rattle.es_steps.specs.CoreBridge.{first_whole}
use Rattle.es_lowered.specs.Moved.{IsMoved}
use Rattle.es_lowered.specs.Used.{IsUsed}
use Rattle.es_reached.specs.Reached.{IsCoreResult}
use Rattle.es_import_runs.specs.Laws.{RunsImporting, supply_in}
use Rattle.es_statement_runs.specs.Helpers.Supply.{by_global}
use Rattle.es_runs.specs.Runs.{is_declared}
use Rattle.es_tree.specs.Scopes.{Declared}
use Rattle.es_statement_runs.specs.Programs.{IsStatementProgram}
use Rattle.es_statement_runs.specs.Runs.{RunAlike}
use Rattle.es_statement_runs.proofs.Composing.{law_then_proof}
use Rattle.es_statement_steps.specs.Laws.{RunsAsStatements, assumes_no_all, supply_there}
use Rattle.es_export_splits.specs.Laws.{IsSplit}
use Rattle.es_export_splits.specs.Splits.{has_split}
use Rattle.es_helper_calls.specs.Importing.{asks_helper, imports_helpers, own_call, uses_helper}
use Rattle.es_using_modules.specs.Laws.{IsTopped}
use Rattle.es_using_modules.specs.ModuleTops.{uses_at_top}
use Rattle.es_super_calls.specs.Constructors.{is_derived_class}
use Rattle.lower_driver.specs.Copies.{IsCopy}
use Rattle.lower_driver.specs.Imports.{Imports}
use Rattle.lower_driver.specs.Lowers.{Lowers, LowersInPlace, LowersRestsAlone, most_for_each, rests_there}
use Rattle.lower_driver.specs.Moves.{Moves}
use Rattle.lower_driver.specs.Sets.{Sets, sets_this}
use Rattle.lower_driver.specs.SharesKeys.{SharesKeys}
use Rattle.lower_driver.specs.Splits.{Splits, splits_exports}
use Rattle.lower_driver.specs.Tops.{Tops, lowers_top}
use Rattle.lower_driver.specs.Uses.{Heads, Uses, lowers_using, using_there}
use Rattle.lower_driver.specs.UnsupportedPrograms.{Finds, IsFirstOrMemory, IsUnsupportedOrMemory, first_refused}
use Rattle.lower_driver.proofs.CopiedOptions.{copied-refused}
use Rattle.lower_driver.proofs.CoreNodes.{no-class, no-class-among-statements, no-rest, no-using}
use Rattle.lower_driver.proofs.Imported.{core-unimporting, imported-program, is-imported, none-left, require-free, size-after}
use Rattle.lower_driver.proofs.Moved.{is-moved, moved-run, moved-weight, moves-itself, no-moves, off-anyway, one-program, stays-itself}
use Rattle.lower_driver.proofs.Set.{is-set, none-after, set-size, sets-itself}
use Rattle.lower_driver.proofs.Shared.{is-shared, none-shares, shared-run, shared-size}
use Rattle.lower_driver.proofs.Splits.{is-split, off-without, one-split, same-using, split-class, split-helpers, split-passes, split-run, split-top, split-weight, splits-itself}
use Rattle.lower_driver.proofs.Tops.{is-topped, one-topped, top-weight, tops-as, tops-itself, untopped-off}
use Rattle.lower_driver.proofs.Used.{heads-as, heads-itself, is-headed, is-used, one-headed, one-used, unasked-off, uses-as, uses-itself}
use Rattle.es_moved_runs.specs.Laws.{moves_so}

-- ONE THING IS FOUND in a source

pub finds-one : (o : EnvOptions) (p : Tree) (a b : Option (UnsupportedKind × ℕ)) → Finds o p a → Finds o p b → a ≡ b
finds-one o p a b f g =
    let first : f.split ≡ g.split = one-split (splits_exports o p) p f.split g.split f.splits g.splits in
    let heads = subst (λ (s : Tree). Heads (lowers_using o s) s f.headed f.head_names) first f.heads in
    let headed : f.headed ≡ g.headed = one-headed (lowers_using o g.split) g.split f.headed g.headed f.head_names g.head_names heads g.heads in
    let uses = subst (λ (t : Tree). Uses (lowers_using o g.split) t f.used f.context_names) headed (subst (λ (s : Tree). Uses (lowers_using o s) f.headed f.used f.context_names) first f.uses) in
    let same : f.used ≡ g.used = one-used (lowers_using o g.split) g.headed f.used g.used f.context_names g.context_names uses g.uses in
    let tops = subst (λ (t : Tree). Tops (lowers_top o g.split t) t f.topped f.top_names) same (subst (λ (s : Tree). Tops (lowers_top o s f.used) f.used f.topped f.top_names) first f.tops) in
    let topped : f.topped ≡ g.topped = one-topped (lowers_top o g.split g.used) g.used f.topped g.topped f.top_names g.top_names tops g.tops in
    let there = subst (λ (t : Tree). Moves (is_some o.es2018.object_rest_spread) t f.moved f.names) topped f.moves in
    let moved : f.moved ≡ g.moved = one-program (is_some o.es2018.object_rest_spread) g.topped f.moved g.moved f.names g.names there g.moves in
    sym f.first ∙ ap (λ (s : Tree). first_refused o (lowers_using o s) (own_call o s) f.moved) first ∙ ap (first_refused o (lowers_using o g.split) (own_call o g.split)) moved ∙ g.first

-- whatever copy of the options it is
copied-lowers : (o c : EnvOptions) → IsCopy o c → (p : Tree) → lowers_using c p ≡ lowers_using o p
copied-lowers o c copy p = λ i. ((copy.es2026 i).explicit_resource_management && any_node is_using p) && not (binds_helpers (symbols_of p))

copied-own : (o c : EnvOptions) → IsCopy o c → (p : Tree) → own_call c p ≡ own_call o p
copied-own o c copy p = λ i. if is_external (copy.mode i) then None else first_node uses_helper p

copied-splits : (o c : EnvOptions) → IsCopy o c → (p : Tree) → splits_exports c p ≡ splits_exports o p
copied-splits o c copy p = λ i. is_some (copy.es2018 i).object_rest_spread && has_split p

pub copied-finds : (o c : EnvOptions) → IsCopy o c → (p : Tree) (a : Option (UnsupportedKind × ℕ)) → Finds c p a → Finds o p a
copied-finds o c copy p a f = record {
  split = f.split;
  splits = subst (λ (b : Bool). Splits b p f.split) (copied-splits o c copy p) f.splits;
  headed = f.headed;
  head_names = f.head_names;
  heads = subst (λ (b : Bool). Heads b f.split f.headed f.head_names) (copied-lowers o c copy f.split) f.heads;
  used = f.used;
  context_names = f.context_names;
  uses = subst (λ (b : Bool). Uses b f.headed f.used f.context_names) (copied-lowers o c copy f.split) f.uses;
  topped = f.topped;
  top_names = f.top_names;
  tops = subst (λ (b : Bool). Tops b f.used f.topped f.top_names) (ap (λ b. b && uses_at_top f.used) (copied-lowers o c copy f.split)) f.tops;
  moved = f.moved;
  names = f.names;
  moves = subst (λ (b : Bool). Moves b f.topped f.moved f.names) (λ i. is_some (copy.es2018 i).object_rest_spread) f.moves;
  first = ap (λ (b : Bool). first_refused o b (own_call o f.split) f.moved) (sym (copied-lowers o c copy f.split)) ∙ ap (λ (own : Option ℕ). first_refused o (lowers_using c f.split) own f.moved) (sym (copied-own o c copy f.split)) ∙ sym (copied-refused o c copy (lowers_using c f.split) (own_call c f.split) f.moved) ∙ f.first;
}

-- in which neither `using` nor an object rest stands that is asked for
pub finds-itself : (o : EnvOptions) (p : Tree) (a : Option (UnsupportedKind × ℕ)) → using_there o p ≡ false → (is_some o.es2018.object_rest_spread && any_node is_object_rest p) ≡ false → first_refused o (lowers_using o p) (own_call o p) p ≡ a → Finds o p a
finds-itself o p a none rests first =
    let on = is_some o.es2018.object_rest_spread in
    let off = unasked-off o p none in
    record { split = p; splits = splits-itself (splits_exports o p) p (off-without o p rests); headed = p; head_names = []; heads = heads-itself (lowers_using o p) p off; used = p; context_names = []; uses = uses-itself (lowers_using o p) p off; topped = p; top_names = []; tops = tops-itself (lowers_top o p p) p (untopped-off o p p off); moved = p; names = []; moves = moves-itself on p (no-moves on p rests); first = first }

-- WHAT THE FIRST FIVE STAGES LEAVE is a program that breaks no static rule, where a flag tells whether `using` is lowered

pub record IsValid (t : Tree) : Type 0 where
  pub form : has_form s-Program t ≡ true
  pub kept : breaks t ≡ []

pub topped-valid : (o : EnvOptions) (s p t v z : Tree) (a : Bool) (heads contexts tops : List Text) → has_form s-Program s ≡ true → breaks s ≡ [] → a ≡ lowers_using o p → Splits (splits_exports o s) s p → Heads a p t heads → Uses a t v contexts → Tops (a && uses_at_top v) v z tops → IsValid z
topped-valid o s p t v z a heads contexts tops form right e x h u y =
    let first = is-split (splits_exports o s) s p form right x in
    let second = is-headed o p first.form first.kept t heads (heads-as e h) in
    let third = is-used o p first.form first.kept t v heads contexts (heads-as e h) (uses-as e u) in
    let there = is-topped o p t v heads contexts (heads-as e h) second third z tops (tops-as e y) in
    record { form = there.form; kept = there.kept }

pub moved-valid : (o : EnvOptions) (z q : Tree) (names : List Text) → IsValid z → Moves (is_some o.es2018.object_rest_spread) z q names → IsValid q
moved-valid o z q names h m = let there = is-moved o z q names h.form h.kept m in record { form = there.form; kept = there.kept }

-- HOW LARGE THEY MAKE IT

light : (p : Tree) → weighed p ≤ 7 * tree_size p
light p = (law_moved_size_proof p (plainly []) (λ n t. refl)).1

pub used-and-moved-size : (o : EnvOptions) (s p t v z q : Tree) (heads contexts tops names : List Text) → has_form s-Program s ≡ true → Splits (splits_exports o s) s p → Heads (lowers_using o p) p t heads → Uses (lowers_using o p) t v contexts → Tops (lowers_top o p v) v z tops → Moves (is_some o.es2018.object_rest_spread) z q names →
    tree_size q ≤ 10 * tree_size s
used-and-moved-size o s p t v z q heads contexts tops names form x h u y m =
    let heavy = top-weight (splits_exports o s) (lowers_using o p) (uses_at_top v) s p t v z heads contexts tops form (light s) refl x h u y in
    let paid = moved-weight (is_some o.es2018.object_rest_spread) z q names m in
    omega (arith, heavy, paid)

-- WHAT A SOURCE BECOMES

none-more : (xs : List Text) → xs ++ [] ≡ xs
none-more [] = refl
none-more (x ∷ xs) = ap (λ ys. x ∷ ys) (none-more xs)

module _
    (o : EnvOptions) (s p t v z q lowered shared imported written : Tree) (heads contexts top_names names later keys last : List Text) (form : has_form s-Program s ≡ true) (right : breaks s ≡ []) (x : Splits (splits_exports o s) s p) (h : Heads (lowers_using o p) p t heads) (u : Uses (lowers_using o p) t v contexts)
    (y : Tops (lowers_top o p v) v z top_names) (m : Moves (is_some o.es2018.object_rest_spread) z q names) (none : first_refused o (lowers_using o p) (own_call o p) q ≡ None) (in_place : LowersInPlace o q lowered later) (shares : SharesKeys (shares_keys o (names_itself p) q) lowered shared keys)
    (imports : Imports (imports_helpers o (lowers_using o p) q) (string_bytes o.helper_loader.module_name) shared imported last) (sets : Sets (sets_this o s) later imported written) where
  abbrev on : Bool
  on = is_some o.es2018.object_rest_spread

  abbrev made : Bool
  made = lowers_using o p

  abbrev own : Option ℕ
  own = own_call o p

  abbrev sharing : Bool
  sharing = shares_keys o (names_itself p) q

  abbrev all_names : List Text
  all_names = heads ++ contexts ++ top_names ++ names ++ later ++ keys ++ last

  split_there : IsSplit (splits_exports o s) s p
  split_there = is-split (splits_exports o s) s p form right x

  headed_there : IsUsed (lowers_using o p) p t heads
  headed_there = is-headed o p split_there.form split_there.kept t heads h

  used_there : IsUsed (lowers_using o p) t v contexts
  used_there = is-used o p split_there.form split_there.kept t v heads contexts h u

  topped_there : IsTopped (lowers_top o p v) v z top_names
  topped_there = is-topped o p t v heads contexts h headed_there used_there z top_names y

  moved_there : IsMoved on z q names
  moved_there = is-moved o z q names topped_there.form topped_there.kept m

  -- where no `using` is taken the second to the fourth stage leave it as it is
  record Unused : Type 0 where
    same : z ≡ p
    heads_none : heads ≡ []
    contexts_none : contexts ≡ []
    tops_none : top_names ≡ []

  same-used : using_there o s ≡ false → Unused
  same-used none =
      let off = unasked-off o p (same-using o s p x ∙ none) in
      let first = h.stays off in
      let second = u.stays off in
      let third = y.stays (untopped-off o p v off) in
      record { same = third.0 ∙ second.0 ∙ first.0; heads_none = first.1; contexts_none = second.1; tops_none = third.1 }

  -- and where no rest is either so do the first and the fifth, and no list is shared
  record Same : Type 0 where
    split : p ≡ s
    moved : q ≡ s
    unmade : made ≡ false
    unused : Unused
    names_none : names ≡ []
    unshared : shared ≡ lowered
    keys_none : keys ≡ []

  same-there : using_there o s ≡ false → rests_there o s ≡ false → Same
  same-there none_used none_moved =
      let first = x.stays (off-without o s none_moved) in
      let second = same-used none_used in
      let there = second.same ∙ first in
      let rests : (on && any_node is_object_rest z) ≡ false = ap (λ (t : Tree). on && any_node is_object_rest t) there ∙ none_moved in
      let third = stays-itself on z (no-moves on z rests) q names m in
      let moved = third.0 ∙ there in
      let fourth = shares.stays (none-shares o (names_itself p) q (ap (rests_there o) moved ∙ none_moved)) in
      record { split = first; moved = moved; unmade = unasked-off o p (same-using o s p x ∙ none_used); unused = second; names_none = third.1; unshared = fourth.0; keys_none = fourth.1 }

  -- where it imports no helper, either, and has no class that extends another, what is lowered in place is what is written
  as-before : Same → imports_helpers o false s ≡ false → any_node is_derived_class s ≡ false → (written ≡ lowered) × (last ≡ [])
  as-before same off none =
      let unimported = imports.stays (ap (imports_helpers o made) same.moved ∙ ap (λ (b : Bool). imports_helpers o b s) same.unmade ∙ off) in
      (sets.stays (off-anyway (is_some o.es2015.arrow_function) (any_node is_derived_class s) none) ∙ unimported.0 ∙ same.unshared, unimported.1)

  core-there : IsCoreProgram s → IsCoreResult o s written all_names
  core-there core =
      let rests = no-rest s core.core in
      let same = same-there (off-anyway o.es2026.explicit_resource_management (any_node is_using s) (no-using s core.core)) (off-anyway on (any_node is_object_rest s) rests) in
      let stays = as-before same (core-unimporting o false s refl core.core rests) (no-class s core.core) in
      let there : IsCoreResult o s lowered later = subst (λ (t : Tree). IsCoreResult o t lowered later) same.moved (in_place.core (subst (λ (t : Tree). IsCoreProgram t) (sym same.moved) core)) in
      let unused = same.unused in
      let named : all_names ≡ later =
      ap (λ (xs : List Text). xs ++ contexts ++ top_names ++ names ++ later ++ keys ++ last) unused.heads_none ∙ ap (λ (xs : List Text). xs ++ top_names ++ names ++ later ++ keys ++ last) unused.contexts_none ∙ ap (λ (xs : List Text). xs ++ names ++ later ++ keys ++ last) unused.tops_none
      ∙ ap (λ (xs : List Text). xs ++ later ++ keys ++ last) same.names_none ∙ ap (λ (xs : List Text). later ++ xs ++ last) same.keys_none ∙ ap (λ (xs : List Text). xs ++ last) (none-more later) ∙ ap (λ (xs : List Text). later ++ xs) stays.1 ∙ none-more later in
      subst (λ (xs : List Text). IsCoreResult o s written xs) (sym named) (subst (λ (t : Tree). IsCoreResult o s t later) (sym stays.0) there)

  statements-there : using_there o s ≡ false → rests_there o s ≡ false → imports_helpers o false s ≡ false → RunsAsStatements o s → RunAlike (supply_there o s) (assumes_no_all o s) s written
  statements-there no_using no_rests off runs =
      let same = same-there no_using no_rests in
      let there : RunAlike (supply_there o s) (assumes_no_all o s) s lowered = subst (λ (t : Tree). RunAlike (supply_there o t) (assumes_no_all o t) t lowered) same.moved (in_place.statements (ap (rests_there o) same.moved ∙ no_rests) (subst (λ (t : Tree). RunsAsStatements o t) (sym same.moved) runs)) in
      subst (λ (t : Tree). RunAlike (supply_there o s) (assumes_no_all o s) s t) (sym (as-before same off (no-class-among-statements s runs.class.without_functions)).0) there

  -- a program that imports a helper, or requires it
  importing-there : using_there o s ≡ false → rests_there o s ≡ false → imports_helpers o false s ≡ true → IsStatementProgram s → RunsImporting o (string_bytes o.helper_loader.module_name) s → RunAlike (supply_in (string_bytes o.helper_loader.module_name) s) (assumes_no_all o s) s written
  importing-there no_using no_rests on_here class runs =
      let m : Text = string_bytes o.helper_loader.module_name in
      let same = same-there no_using no_rests in
      let asked : imports_helpers o made q ≡ true = ap (imports_helpers o made) same.moved ∙ ap (λ (b : Bool). imports_helpers o b s) same.unmade ∙ on_here in
      let require = require-free o made sharing own q lowered shared imported later keys last moved_there.form moved_there.kept none in_place.result shares imports asked in
      let goes : ImportsTo (first_whole lowered).in_use m lowered imported last = subst (λ (t : Tree). ImportsTo (first_whole t).in_use m t imported last) same.unshared (imports.goes asked) in
      let there : RunAlike (supply_in m q) (assumes_no_all o q) q imported = in_place.importing (ap (rests_there o) same.moved ∙ no_rests) (subst (λ (t : Tree). IsStatementProgram t) (sym same.moved) class) m imported last (subst (λ (t : Tree). RunsImporting o m t) (sym same.moved) runs) require goes in
      let unset : written ≡ imported = sets.stays (off-anyway (is_some o.es2015.arrow_function) (any_node is_derived_class s) (no-class-among-statements s class.without_functions)) in
      subst (λ (t : Tree). RunAlike (supply_in m s) (assumes_no_all o s) s t) (sym unset) (subst (λ (t : Tree). RunAlike (supply_in m t) (assumes_no_all o t) t imported) same.moved there)

  -- a program of statements in which object rests alone are lowered, each where it stands
  rests-there : LowersRestsAlone o s q → RunAlike by_global false s written
  rests-there alone =
      let splits = splits_exports o s in
      let class = split-class splits s p alone.class x in
      let helpers = split-helpers splits s p alone.helpers x in
      let so = split-passes moves_so splits s p (record { exports = λ l fs. refl; specifiers = λ l fs. refl; names = λ l fs. refl; programs = λ l ds ts us. refl }) x alone.moves in
      let moves : Moves on p q names = subst (λ (t : Tree). Moves on t q names) (same-used alone.no_using).same m in
      let moved = moved-run on p q names class helpers so moves in
      let taken = in_place.rests (record { class = moved.class; helpers = moved.helpers; others = alone.others }) in
      let unimported = imports.stays (ap (λ (b : Bool). not b && any_node (asks_helper o made) q) alone.external) in
      let unset : written ≡ imported = sets.stays (off-anyway (is_some o.es2015.arrow_function) (any_node is_derived_class s) (no-class-among-statements s alone.class.without_functions)) in
      let from_split : RunAlike by_global false p shared = law_then_proof by_global false p q shared moved.runs (shared-run sharing q lowered shared keys shares taken) moved.declared in
      subst (λ (t : Tree). RunAlike by_global false s t) (sym (unset ∙ unimported.0))
      (law_then_proof by_global false s p shared (split-run splits s p alone.class alone.helpers x) from_split (λ y e. ap (λ (ds : List Declared). is_declared ds y) (split-top splits s p alone.class x) ∙ e))

  -- SIZE

  moved-size : z ≡ p → 2 * tree_size q ≤ (if splits_exports o s then 8 else 7) * tree_size s
  moved-size same =
      let paid : 2 * tree_size q ≤ weighed p = subst (λ (t : Tree). 2 * tree_size q ≤ weighed t) same (moved-weight on z q names m) in
      at (splits_exports o s) paid (split-weight (splits_exports o s) s p (light s) x)
    where
      at : (b : Bool) → 2 * tree_size q ≤ weighed p → weighed p ≤ (if b then 8 else 7) * tree_size s → 2 * tree_size q ≤ (if b then 8 else 7) * tree_size s
      at true paid weight = omega (arith, paid, weight)
      at false paid weight = omega (arith, paid, weight)

  most : (b : Bool) → tree_size lowered ≤ (if b then 372 else 64) * tree_size q → tree_size lowered ≤ 372 * tree_size q
  most true h = h
  most false h = omega (arith, h)

  some-node : (tree : Tree) → 1 ≤ tree_size tree
  some-node (node k l fs) = omega arith

  shared-most : tree_size shared ≤ most_for_each (using_there o s) (rests_there o s) (splits_exports o s) sharing * tree_size s
  shared-most = at (using_there o s) (rests_there o s) sharing refl refl (shared-size sharing lowered shared keys shares)
    where
      grown : tree_size lowered ≤ 372 * tree_size q
      grown = most (rests_there o q) in_place.size

      rests : (b c : Bool) → 2 * tree_size q ≤ (if b then 8 else 7) * tree_size s → 2 * tree_size shared ≤ (if c then 3 * tree_size lowered + 2 else 2 * tree_size lowered) → tree_size shared ≤ most_for_each false true b c * tree_size s
      rests true true paid more = omega (arith, paid, grown, more, some-node s)
      rests true false paid more = omega (arith, paid, grown, more, some-node s)
      rests false true paid more = omega (arith, paid, grown, more, some-node s)
      rests false false paid more = omega (arith, paid, grown, more, some-node s)

      used : (c : Bool) → 2 * tree_size shared ≤ (if c then 3 * tree_size lowered + 2 else 2 * tree_size lowered) → (b d : Bool) → tree_size shared ≤ most_for_each true b d c * tree_size s
      used true more b d = let e = used-and-moved-size o s p t v z q heads contexts top_names names form x h u y m in omega (arith, e, grown, more, some-node s)
      used false more b d = let e = used-and-moved-size o s p t v z q heads contexts top_names names form x h u y m in omega (arith, e, grown, more, some-node s)

      at : (a b c : Bool) → using_there o s ≡ a → rests_there o s ≡ b → 2 * tree_size shared ≤ (if c then 3 * tree_size lowered + 2 else 2 * tree_size lowered) → tree_size shared ≤ most_for_each a b (splits_exports o s) c * tree_size s
      at true b c _ d more = used c more b (splits_exports o s)
      at false true c e d more = rests (splits_exports o s) c (moved-size (same-used e).same) more
      at false false c e d more =
          let same = same-there e d in
          subst (λ (t : Tree). tree_size t ≤ 64 * tree_size s) (sym same.unshared)
          (subst (λ (n : ℕ). tree_size lowered ≤ n * tree_size s) (ap (λ b. if b then 372 else 64) (ap (rests_there o) same.moved ∙ d)) (subst (λ (t : Tree). tree_size lowered ≤ (if rests_there o q then 372 else 64) * tree_size t) same.moved in_place.size))

  imported-size : tree_size imported ≤ most_for_each (using_there o s) (rests_there o s) (splits_exports o s) sharing * tree_size s + (if imports_helpers o made q then 36 else 0)
  imported-size = let least = shared-most in let more = size-after o made sharing own q lowered shared imported later keys last moved_there.form moved_there.kept none in_place.result shares imports in omega (arith, least, more)

  sized : tree_size written ≤ (if sets_this o s then 3 else 1) * (most_for_each (using_there o s) (rests_there o s) (splits_exports o s) sharing * tree_size s + (if imports_helpers o made q then 36 else 0))
  sized = set-size (sets_this o s) later imported written sets _ imported-size

  imported-there : (has_form s-Program imported ≡ true) × (breaks imported ≡ [])
  imported-there = imported-program o made sharing own q lowered shared imported later keys last moved_there.form moved_there.kept none in_place.result shares imports

  pub lowers : has_enabled_construct o s ≡ true → Lowers o s written all_names
  lowers some = record {
    split = p;
    splits = x;
    is_split = split_there;
    headed = t;
    head_names = heads;
    heads = h;
    is_headed = headed_there;
    used = v;
    context_names = contexts;
    uses = u;
    is_used = used_there;
    topped = z;
    top_names = top_names;
    tops = y;
    is_topped = topped_there;
    moved = q;
    first_names = names;
    moves = m;
    is_moved = moved_there;
    lowered = lowered;
    later_names = later;
    in_place = in_place;
    shared = shared;
    key_names = keys;
    shares = shares;
    is_shared = is-shared sharing lowered shared keys in_place.result.result.form in_place.result.result.kept shares;
    imported = imported;
    last_names = last;
    imports = imports;
    is_imported = is-imported o made sharing own q lowered shared imported later keys last moved_there.form moved_there.kept none in_place.result shares imports;
    sets = sets;
    is_set = is-set (sets_this o s) later imported written sets imported-there.0 imported-there.1;
    all_names = refl;
    none = none-after (sets_this o s) later imported written sets o (none-left o made sharing own q lowered shared imported later keys last moved_there.form moved_there.kept none in_place.result shares imports in_place.none);
    core = core-there;
    statements = statements-there;
    statements_importing = importing-there;
    rests = rests-there;
    unchanged = λ unasked. absurd (true≢false (sym some ∙ unasked));
    size = sized;
  }

-- A program in which no construct stands that the options ask to lower becomes itself: no name is made, so none is set.
pub becomes-itself : (o : EnvOptions) (p : Tree) → has_form s-Program p ≡ true → breaks p ≡ [] → using_there o p ≡ false → (is_some o.es2018.object_rest_spread && any_node is_object_rest p) ≡ false → imports_helpers o (lowers_using o p) p ≡ false → first_refused o (lowers_using o p) (own_call o p) p ≡ None → LowersInPlace o p p [] → Lowers o p p []
becomes-itself o p form right unused rests off none in_place =
    let on = is_some o.es2018.object_rest_spread in
    let off_here = unasked-off o p unused in
    let h = heads-itself (lowers_using o p) p off_here in
    let u = uses-itself (lowers_using o p) p off_here in
    let m = moves-itself on p (no-moves on p rests) in
    let x = splits-itself (splits_exports o p) p (off-without o p rests) in
    let y = tops-itself (lowers_top o p p) p (untopped-off o p p off_here) in
    let headed-there = is-headed o p form right p [] h in
    let used-there = is-used o p form right p p [] [] h u in
    let unshared : shares_keys o (names_itself p) p ≡ false = none-shares o (names_itself p) p rests in
    let shares : SharesKeys (shares_keys o (names_itself p) p) p p [] = record { goes = λ asked. absurd (true≢false (sym asked ∙ unshared)); stays = λ e. (refl, refl) } in
    let imports : Imports (imports_helpers o (lowers_using o p) p) (string_bytes o.helper_loader.module_name) p p [] = record { goes = λ asked. absurd (true≢false (sym asked ∙ off)); stays = λ e. (refl, refl) } in
    let sets = sets-itself (sets_this o p) p in
    record {
      split = p;
      splits = x;
      is_split = is-split (splits_exports o p) p p form right x;
      headed = p;
      head_names = [];
      heads = h;
      is_headed = headed-there;
      used = p;
      context_names = [];
      uses = u;
      is_used = used-there;
      topped = p;
      top_names = [];
      tops = y;
      is_topped = is-topped o p p p [] [] h headed-there used-there p [] y;
      moved = p;
      first_names = [];
      moves = m;
      is_moved = is-moved o p p [] form right m;
      lowered = p;
      later_names = [];
      in_place = in_place;
      shared = p;
      key_names = [];
      shares = shares;
      is_shared = λ asked. absurd (true≢false (sym asked ∙ unshared));
      imported = p;
      last_names = [];
      imports = imports;
      is_imported = λ asked. absurd (true≢false (sym asked ∙ off));
      sets = sets;
      is_set = is-set (sets_this o p) [] p p sets form right;
      all_names = refl;
      none = in_place.none;
      core = in_place.core;
      statements = λ no_using no_rests unasked runs. in_place.statements no_rests runs;
      statements_importing = λ no_using no_rests on_here class runs. absurd (true≢false (sym on_here ∙ ap (λ (b : Bool). imports_helpers o b p) (sym off_here) ∙ off));
      rests = λ alone. (in_place.rests (record { class = alone.class; helpers = alone.helpers; others = alone.others })).runs;
      unchanged = λ unasked. record { same = refl; no_names = refl };
      size = sized o p p p p p p p p p p [] [] [] [] [] [] [] form right x h u y m none in_place shares imports sets;
    }

-- WHY IT IS REFUSED

pub cause-of : (o : EnvOptions) (s p t v z q : Tree) (heads contexts top_names names : List Text) (error : LowerError) → Splits (splits_exports o s) s p → Heads (lowers_using o p) p t heads → Uses (lowers_using o p) t v contexts → Tops (lowers_top o p v) v z top_names → Moves (is_some o.es2018.object_rest_spread) z q names →
    IsFirstOrMemory o (lowers_using o p) (own_call o p) q error → IsUnsupportedOrMemory o s error
cause-of o s p t v z q heads contexts top_names names (Unsupported kind id) x h u y m e = record { split = p; splits = x; headed = t; head_names = heads; heads = h; used = v; context_names = contexts; uses = u; topped = z; top_names = top_names; tops = y; moved = q; names = names; moves = m; first = e }
cause-of o s p t v z q heads contexts top_names names OutOfMemory x h u y m e = tt
cause-of o s p t v z q heads contexts top_names names _ x h u y m e = absurd e

-- and the error that a call gives on
pub given-on : {T : Type 0} (r : Result T LowerError) (e : LowerError) (Q : LowerError → Type 0) → IsErrAnd r (λ x. x ≡ e) → Q e → IfErr r Q
given-on (Ok x) e Q h q = absurd h
given-on (Err x) e Q h q = subst Q (sym h) q
