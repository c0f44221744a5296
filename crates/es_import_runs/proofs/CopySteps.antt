-- Steps of the rules leave `babelHelpers` in calls of the helper of object spread alone, where none stands in a chain that may be lowered.
use Rattle.std.proofs.Common.{◌≡◌, ◌∙◌, ℕ, refl, sym, ap, subst, List, [], ◌∷◌, ◌++◌, zero, suc}
use Rattle.std.proofs.lemmas.Bool.{and_from, and_parts}
use Rattle.std.specs.Prelude.{◌&&◌, ◌||◌, Bool, true, false, not, Option, Some, None, bytes_eq, codes, is_some, if◌then◌else◌}
use Rattle.es_tree.specs.HasForm.{has_form}
use Rattle.es_tree.specs.Names.{first_text, flag_at}
use Rattle.es_tree.specs.Scopes.{Declared}
use Rattle.es_tree.specs.Tree.{Tree, node, Label, Fields, done, ◌then◌, Field, one, Trees, empty, ◌before◌, kind_of, trees}
use Rattle.es_tree.specs.Walks.{all_in_fields}
use Rattle.es_tree.specs.Words.{Text}
use Rattle.es_tree.specs.declared.ast_type.AstType.{AstType}
use Rattle.es_tree.specs.declared.ast_type.AstType.TheVariants.{CallExpression, Identifier, MemberExpression, Program}
use Rattle.es_tree.specs.declared.helper.Helper.{Helper}
use Rattle.es_tree.specs.declared.options.EnvOptions.{EnvOptions}
use Rattle.es_tree.specs.declared.table.Sort.TheVariants.{Program as s-Program}
use Rattle.es_resolution.specs.Declarations.{Bound}
use Rattle.es_runs.specs.Runs.{program}
use Rattle.es_runs.proofs.Temporary.{bytes_eq-self}
use Rattle.es_semantic.specs.RolesOf.{binding_of, reads, role_at}
use Rattle.es_semantic.specs.declared.place.Role.{Role}
use Rattle.es_semantic.specs.declared.place.Role.TheVariants.{Binds, Nothing, Top}
use Rattle.es_semantic.specs.declared.place.Binding.{Binding}
use Rattle.es_resolution.proofs.Roles.{role-same}
use Rattle.es_tree.specs.Children.{child_at}
use Rattle.es_steps.specs.CoreBridge.{names_among}
use Rattle.es_steps.specs.CoreRules.{RowRule}
use Rattle.es_steps.specs.Exponentiation.{ExponentiationRule}
use Rattle.es_steps.specs.Exponentiation.ExponentiationRule.{power, power_assignment}
use Rattle.es_steps.specs.LogicalAssignment.{LogicalAssignmentRule}
use Rattle.es_steps.specs.LogicalAssignment.LogicalAssignmentRule.{to_computed_member, to_name, to_static_member}
use Rattle.es_steps.specs.Nodes.{joined_trees, placed}
use Rattle.es_steps.specs.NullishCoalescing.{NullishCoalescingRule}
use Rattle.es_steps.specs.NullishCoalescing.NullishCoalescingRule.{reading_again, with_temporary}
use Rattle.es_steps.specs.ObjectRest.{helper_node}
use Rattle.es_steps.specs.ObjectSpread.{Copies, SpreadRule, copied, last_copied}
use Rattle.es_steps.specs.ObjectSpread.Copies.{copies as copies_one, keeps, no_more}
use Rattle.es_steps.specs.ObjectSpread.SpreadRule.{spreads}
use Rattle.es_steps.specs.Open.{Additions, Open, Pending, after_imports, finished, finished_field, finished_fields, finished_trees, is_import, pending_statements, whole_list}
use Rattle.es_steps.specs.OptionalCatch.{CatchRule}
use Rattle.es_steps.specs.OptionalChaining.{OptionalChainingRule}
use Rattle.es_steps.specs.OptionalChaining.OptionalChainingRule.{as_callee, by_tests, in_delete}
use Rattle.es_steps.specs.Rules.{Replacing, Writing}
use Rattle.es_steps.specs.Steps.{Ledger, Site, Spot, Whole}
use Rattle.es_steps.proofs.RuleLaws.{writes-lists}
use Rattle.es_steps.proofs.Taken.{whole_in}
use Rattle.es_statement_runs.specs.BareVars.{GrownDeclarators}
use Rattle.es_statement_runs.specs.BareVars.GrownDeclarators.{as_named, none_grown, one_grown}
use Rattle.es_statement_runs.specs.Laws.{among_names}
use Rattle.es_statement_runs.specs.Places.{Take}
use Rattle.es_statement_runs.proofs.Moved.{Moved, MovedField, MovedFields, MovedList, MovedTrees, Room}
use Rattle.es_statement_runs.proofs.Moved.Moved.{moved_block, moved_case, moved_node, moved_place}
use Rattle.es_statement_runs.proofs.Moved.MovedField.{moved_many, moved_missing, moved_one, moved_statements}
use Rattle.es_statement_runs.proofs.Moved.MovedFields.{moved_done, moved_then}
use Rattle.es_statement_runs.proofs.Moved.MovedList.{moved_end, moved_grown, moved_new, moved_statement}
use Rattle.es_statement_runs.proofs.Moved.MovedTrees.{moved_before, moved_empty}
use Rattle.es_helper_calls.specs.HelperCalls.{helper_of, is_called, named_helper, used_helper}
use Rattle.es_valid_steps.proofs.ProgramLists.{ProgramExported, program-exported}
use Rattle.es_valid_steps.proofs.ProgramLists.ProgramExported.{at_list as in_the_list}
use Rattle.es_valid_steps.proofs.Spread.{finished-spread}
use Rattle.es_statement_steps.proofs.Assignments.{AssigningRow, assigning-shape}
use Rattle.es_statement_steps.proofs.Below.{nodes_below}
use Rattle.es_statement_steps.proofs.Chainings.{ChainingRow, chaining-shape}
use Rattle.es_statement_steps.proofs.ChainsApart.{no_helper_in_chain}
use Rattle.es_statement_steps.proofs.Catchings.{CatchRow, catch-rule}
use Rattle.es_statement_steps.proofs.Catchings.CatchMade.{made_catch}
use Rattle.es_statement_steps.proofs.Coalescings.{CoalescingRow, coalescing-shape}
use Rattle.es_statement_steps.proofs.Composition.{Known, exported, known-fine}
use Rattle.es_statement_steps.proofs.ExportSplits.{SplitHere, split-by}
use Rattle.es_statement_steps.proofs.ExportSplits.SplitHere.{split_here, split_later}
use Rattle.es_statement_steps.proofs.Nameless.{Nameless, made-other}
use Rattle.es_statement_steps.proofs.Powers.{RaisingRow, raising-shape}
use Rattle.es_statement_steps.proofs.Premises.{Inwards, Premise, RowWith, With, premised, premised-rule}
use Rattle.es_statement_steps.proofs.ProgramMoves.{MovedProgram, ProgramWent, program-moved}
use Rattle.es_statement_steps.proofs.Replacings.{Row, replacing-rule}
use Rattle.es_statement_steps.proofs.SpreadRuns.{spread-shape}
use Rattle.es_statement_steps.proofs.StatementLaw.{KeptInOrder}
use Rattle.es_statement_steps.proofs.StepMoves.{Acted, NodeRule}
use Rattle.es_statement_steps.proofs.StepRules.{Does, StatementRules, chains_under, off-does, on-does, statement-does, writing-form}
use Rattle.es_statement_steps.proofs.Writings.{written-same}
use Rattle.es_import_runs.proofs.Callings.{HelperCall, helper_shape, helpers_}
use Rattle.es_import_runs.proofs.Callings.HelperCall.{helper_called, helper_passed}
use Rattle.es_import_runs.proofs.CopyRows.{assigning_kept, chaining_kept, fresh_other, raising_kept}
use Rattle.es_import_runs.proofs.OnlyCopies.{any_copies, copies, copies_among, copies_by, copies_in, node_copies, only_copies, name_other, handed_other}

-- ROWS

-- neither a name nor a member
abbrev pub is_no_callee : AstType → Bool
is_no_callee Identifier = false
is_no_callee MemberExpression = false
is_no_callee _ = true

pub record KeepsCopies (a b : Tree) : Type 0 where
  pub apart : is_no_callee (kind_of a) ≡ true
  pub kept : (r : Role) → only_copies r a ≡ true → only_copies r b ≡ true

coalescing_copies : (n : Site) (w : Whole) (bs : List Bound) (t u : Tree) → NullishCoalescingRule n w bs t u → KeepsCopies t u
coalescing_copies n w bs _ _ (with_temporary {l = l} {r = r} {x = x} texts again next) = record {
  apart = refl;
  kept = λ role h. let d = and_parts (only_copies reads l) (only_copies reads r && true) h in rw (fresh_other w.in_use _ x.name next.fresh, d.0, (and_parts (only_copies reads r) true d.1).0) refl;
}
coalescing_copies n w bs _ _ (reading_again {l = l} {r = r} texts again) = record {
  apart = refl;
  kept = λ role h. let d = and_parts (only_copies reads l) (only_copies reads r && true) h in rw (d.0, (and_parts (only_copies reads r) true d.1).0) refl;
}

catch_copies : (new : List Bound) (n : Site) (w : Whole) (t u : Tree) → CatchRow new n w t u → KeepsCopies t u
catch_copies new n w _ _ (made_catch {m = m} {b = b} {x = x} fresh) = record { apart = refl; kept = λ role h. rw (fresh_other w.in_use (codes "unused") x.name fresh) h }

assigning_apart : (n : Site) (w : Whole) (bs : List Bound) (t u : Tree) → LogicalAssignmentRule n w bs t u → is_no_callee (kind_of t) ≡ true
assigning_apart n w _ _ _ (to_name texts operator alone e) = refl
assigning_apart n w _ _ _ (to_static_member texts operator alone e flags object) = refl
assigning_apart n w _ _ _ (to_computed_member texts operator alone e flags object key) = refl

assigning_copies : (n : Site) (w : Whole) (bs : List Bound) (t u : Tree) → LogicalAssignmentRule n w bs t u → KeepsCopies t u
assigning_copies n w bs t u h = record { apart = assigning_apart n w bs t u h; kept = assigning_kept n w bs t u h }

raising_apart : (n : Site) (w : Whole) (bs : List Bound) (t u : Tree) → ExponentiationRule n w bs t u → is_no_callee (kind_of t) ≡ true
raising_apart n w _ _ _ (power free texts left right) = refl
raising_apart n w _ _ _ (power_assignment free texts right alone twice) = refl

raising_copies : (n : Site) (w : Whole) (bs : List Bound) (t u : Tree) → ExponentiationRule n w bs t u → KeepsCopies t u
raising_copies n w bs t u h = record { apart = raising_apart n w bs t u h; kept = raising_kept n w bs t u h }

chaining_apart : (no_all : Bool) (n : Site) (w : Whole) (bs : List Bound) (t u : Tree) → OptionalChainingRule no_all n w bs t u → is_no_callee (kind_of t) ≡ true
chaining_apart no_all n w _ _ _ (by_tests level way some) = refl
chaining_apart no_all n w _ _ _ (as_callee level way some callee) = refl
chaining_apart no_all n w _ _ _ (in_delete texts alone target way some) = refl

chaining_copies : (no_all : Bool) (n : Site) (w : Whole) (bs : List Bound) (t u : Tree) → OptionalChainingRule no_all n w bs t u → Nameless t → KeepsCopies t u
chaining_copies no_all n w bs t u h nameless = record { apart = chaining_apart no_all n w bs t u h; kept = chaining_kept no_all n w bs t u h nameless }

-- OBJECT SPREAD

abbrev spread_helper : Tree
spread_helper = helper_node (codes "objectSpread2")

abbrev HeldCopies : Option Tree → Type 0
HeldCopies None = Unit {0}
HeldCopies (Some c) = (r : Role) → only_copies r c ≡ true

last_one : (ps : List Tree) (t : Tree) → copies_among reads (trees ps) ≡ true → only_copies reads t ≡ true → copies_among reads (trees (ps ++ t ∷ [])) ≡ true
last_one [] t h g = and_from (only_copies reads t) true g refl
last_one (p ∷ ps) t h g = let d = and_parts (only_copies reads p) (copies_among reads (trees ps)) h in and_from (only_copies reads p) (copies_among reads (trees (ps ++ t ∷ []))) d.0 (last_one ps t d.1 g)

copied_so : (c : Option Tree) (ps : List Tree) (e : Tree) → HeldCopies c → copies_among reads (trees ps) ≡ true → only_copies reads e ≡ true → (r : Role) → only_copies r (copied spread_helper c ps e) ≡ true
copied_so None ps e h g k r = rw (g, k) refl
copied_so (Some c) [] e h g k r = rw (h reads, k) refl
copied_so (Some c) (p ∷ ps) e h g k r = let d = and_parts (only_copies reads p) (copies_among reads (trees ps)) g in rw (h reads, d.0, d.1, k) refl

last_so : (c : Option Tree) (ps : List Tree) → HeldCopies c → copies_among reads (trees ps) ≡ true → (r : Role) → only_copies r (last_copied spread_helper c ps) ≡ true
last_so None ps h g r = rw g refl
last_so (Some c) [] h g r = h r
last_so (Some c) (p ∷ ps) h g r = let d = and_parts (only_copies reads p) (copies_among reads (trees ps)) g in rw (h reads, d.0, d.1) refl

copies_so : (c : Option Tree) (ps : List Tree) (ts : Trees) (u : Tree) → Copies spread_helper c ps ts u → HeldCopies c → copies_among reads (trees ps) ≡ true → copies_among reads ts ≡ true → (r : Role) → only_copies r u ≡ true
copies_so c ps _ _ no_more h g k = last_so c ps h g
copies_so c ps _ u (copies_one {e = e} {ts = ts} rest) h g k =
    let d = and_parts (only_copies reads e && true) (copies_among reads ts) k in
    copies_so (Some (copied spread_helper c ps e)) [] ts u rest (copied_so c ps e h g (and_parts (only_copies reads e) true d.0).0) refl d.1
copies_so c ps _ u (keeps {t = t} {ts = ts} n rest) h g k = let d = and_parts (only_copies reads t) (copies_among reads ts) k in copies_so c (ps ++ t ∷ []) ts u rest h (last_one ps t g d.0) d.1

-- roles are told by texts and flags
label_alike : (r : Role) (k : AstType) (l m : Label) (fs : Fields) (i : ℕ) → role_at r k (record m { texts = l.texts; flags = l.flags }) fs i ≡ role_at r k l fs i
label_alike r Program l m fs i = refl
label_alike r _ l m fs i = refl

label_same : (r : Role) (k : AstType) (l m : Label) (fs : Fields) (i : ℕ) → m.texts ≡ l.texts → m.flags ≡ l.flags → role_at r k m fs i ≡ role_at r k l fs i
label_same r k l m fs i e f = sym (label_alike r k m m fs i) ∙ (λ j. role_at r k (record m { texts = e j; flags = f j }) fs i) ∙ label_alike r k l m fs i

placed_roles : (r : Role) (m : Label) (k : AstType) (l : Label) (fs : Fields) → role_at r k (record l { start = m.start; stop = m.stop }) fs ≡ role_at r k l fs
placed_roles r m k l fs = λ j i. label_same r k l (record l { start = m.start; stop = m.stop }) fs i refl refl j

placed_copies : (r : Role) (m : Label) (u : Tree) → only_copies r (placed m u) ≡ only_copies r u
placed_copies r m (node Identifier l fs) = refl
placed_copies r m (node CallExpression l (one f then fs)) = λ i. copies_in (copies (used_helper CallExpression l (one f then fs))) (placed_roles r m CallExpression l (one f then fs) i) (one f then fs)
placed_copies r m (node CallExpression l fs) = λ i. copies_in false (placed_roles r m CallExpression l fs i) fs
placed_copies r m (node k l fs) = λ i. copies_in false (placed_roles r m k l fs i) fs

spread_copies : (new : List Bound) (n : Site) (w : Whole) (t u : Tree) → SpreadRule n w new t u → KeepsCopies t u
spread_copies new n w _ _ (spreads {m = m} {ps = ps} {u = u} scope used some none made_so) = record {
  apart = refl;
  kept = λ role h. placed_copies role m u ∙ copies_so None [] ps u made_so tt refl (and_parts (copies_among reads ps) true h).0 role;
}

-- WHAT THE ROWS LEAVE of a tree

module _ (fresh : Text → Bool) (R : List Declared → Take → Tree → Tree → Type 0) (rows : (ds : List Declared) (t : Take) (a b : Tree) → R ds t a b → KeepsCopies a b) (other : (x : Text) → fresh x ≡ true → bytes_eq x helpers_ ≡ false) where
  -- a name stays one, and so does `babelHelpers.NAME`
  pub data NameOf (i : Label) : Tree → Type 0 where
    name_of : {m : Label} {hs : Fields} → m.texts ≡ i.texts → NameOf i (node Identifier m hs)

  name_moved : {r : Room} {ds : List Declared} {t : Take} {i : Label} {gs : Fields} {b : Tree} → Moved fresh R r ds t (node Identifier i gs) b → NameOf i b
  name_moved (moved_place e h) = absurd (let n = (rows _ _ _ _ h).apart in cc n)
  name_moved (moved_node e i h) = name_of e

  member_moved : {r : Room} {ds : List Declared} {t : Take} {j i m : Label} {gs hs : Fields} {b : Tree} (g : Helper) → Moved fresh R r ds t (node MemberExpression j (one (node Identifier i gs) then (one (node Identifier m hs) then done))) b →
      flag_at 0 j.flags ≡ false → flag_at 1 j.flags ≡ false → is_called helpers_ (node Identifier i gs) ≡ true → named_helper (first_text m.texts) ≡ Some g → helper_of b ≡ Some g
  member_moved g (moved_place e h) a b c n = absurd (let p = (rows _ _ _ _ h).apart in cc p)
  member_moved {j = j} {i = i} {m = m} g (moved_node {m = w} e f (moved_then (moved_one h) (moved_then (moved_one k) moved_done))) a b c n = at (name_moved h) (name_moved k)
    where
      at : {o x : Tree} → NameOf i o → NameOf m x → helper_of (node MemberExpression w (one o then (one x then done))) ≡ Some g
      at (name_of p) (name_of q) = rw (f, a, b, p, c, q) n

  name_kept : (r : Role) (k : AstType) (l m : Label) → m.texts ≡ l.texts → name_other r k l ≡ true → name_other r k m ≡ true
  name_kept r Identifier l m e h = rw e h
  name_kept r _ l m e h = refl

  -- roles stay
  shape_kept : {r : ℕ → Room} {ds : ℕ → List Declared} {c : ℕ → Take} {fs gs : Fields} → MovedFields fresh R r ds c fs gs → (i : ℕ) → is_some (child_at i gs) ≡ is_some (child_at i fs)
  shape_kept moved_done i = refl
  shape_kept (moved_then moved_missing j) zero = refl
  shape_kept (moved_then (moved_one h) j) zero = refl
  shape_kept (moved_then (moved_many h) j) zero = refl
  shape_kept (moved_then (moved_statements h) j) zero = refl
  shape_kept (moved_then h j) (suc i) = shape_kept j i

  roles_kept : {r : ℕ → Room} {ds : ℕ → List Declared} {c : ℕ → Take} (role : Role) (k : AstType) (l m : Label) {fs gs : Fields} → m.texts ≡ l.texts → m.flags ≡ l.flags → MovedFields fresh R r ds c fs gs → role_at role k m gs ≡ role_at role k l fs
  roles_kept role k l m {fs = fs} {gs = gs} e f h = role-same role k m fs gs (shape_kept h) ∙ (λ j i. label_same role k l m fs i e f j)

  declarators_kept : (a b : Binding) {cs es : Trees} → GrownDeclarators fresh cs es → copies_among (Binds a) cs ≡ true → copies_among (Binds b) es ≡ true
  declarators_kept a b none_grown h = refl
  declarators_kept a b (as_named {m = m} {o = o} {ds = ds} {es = es} e g) h =
      let d = and_parts ((not (bytes_eq (first_text m.texts) helpers_) && true) && true) (copies_among (Binds a) ds) h in
      rw (e, (and_parts (not (bytes_eq (first_text m.texts) helpers_)) true (and_parts (not (bytes_eq (first_text m.texts) helpers_) && true) true d.0).0).0) (declarators_kept a b g d.1)
  declarators_kept a b (one_grown {o = o} e g) h = rw (other (first_text o.texts) e) (declarators_kept a b g h)

  -- a call of a helper stays one, and what hands one on copies nothing
  called_kept : {r : ℕ → Room} {ds : ℕ → List Declared} {c : ℕ → Take} {k : AstType} (roles : ℕ → Role) (l m : Label) {fs gs : Fields} (g : Helper) → HelperCall g k l fs → m.flags ≡ l.flags → MovedFields fresh R r ds c fs gs → copies_in (copies (Some g)) roles gs ≡ true → copies_in (copies (used_helper CallExpression m gs)) roles gs ≡ true
  called_kept roles l m g (helper_called mark a b object name) flags (moved_then {gs = later} (moved_one {b = now} h) rest) n =
      let stays : used_helper CallExpression m (one now then later) ≡ Some g = rw (flags, mark, member_moved g h a b (rw object refl) name) refl in
      subst (λ (o : Option Helper). copies_in (copies o) roles (one now then later) ≡ true) (sym stays) n
  called_kept roles l m {gs = gs} g (helper_passed e) flags moves n = any_copies (copies (used_helper CallExpression m gs)) roles gs (subst (λ (q : Bool). copies_in q roles gs ≡ true) (handed_other _ g e) n)

  call_kept : {r : ℕ → Room} {ds : ℕ → List Declared} {c : ℕ → Take} (role : Role) (l m : Label) (fs gs : Fields) (o : Option Helper) → used_helper CallExpression l fs ≡ o → m.flags ≡ l.flags → MovedFields fresh R r ds c fs gs → copies_in (copies o) (role_at role CallExpression m gs) gs ≡ true → only_copies role (node CallExpression m gs) ≡ true
  call_kept role l m fs gs None e i h n = node_copies role CallExpression m gs refl (any_copies (copies (used_helper CallExpression m gs)) (role_at role CallExpression m gs) gs n)
  call_kept role l m fs gs (Some g) e i h n = node_copies role CallExpression m gs refl (called_kept (role_at role CallExpression m gs) l m g (helper_shape CallExpression l fs g e) i h n)

  in_roles : (p : Bool) (gs : Fields) {roles others : ℕ → Role} → others ≡ roles → copies_in p roles gs ≡ true → copies_in p others gs ≡ true
  in_roles p gs e h = ap (λ (f : ℕ → Role). copies_in p f gs) e ∙ h

  mutual
    tree_kept : (role : Role) {r : Room} {ds : List Declared} {t : Take} {a b : Tree} → Moved fresh R r ds t a b → only_copies role a ≡ true → only_copies role b ≡ true
    tree_kept role (moved_place e h) n = (rows _ _ _ _ h).kept role n
    tree_kept role (moved_node {k = Identifier} {l = l} {m = m} {fs = fs} {gs = gs} e i h) n = and_from (name_other role Identifier m) true (name_kept role Identifier l m e (and_parts (name_other role Identifier l) true n).0) refl
    tree_kept role (moved_node {k = CallExpression} {l = l} {m = m} {fs = fs} {gs = gs} e i h) n =
        let p = copies (used_helper CallExpression l fs) in
        call_kept role l m fs gs (used_helper CallExpression l fs) refl i h (in_roles p gs (roles_kept role CallExpression l m e i h) (fields_kept p (role_at role CallExpression l fs) h n))
    tree_kept role (moved_node {k = k} {l = l} {m = m} {fs = fs} {gs = gs} e i h) n =
        node_copies role k m gs refl (any_copies (copies (used_helper k m gs)) (role_at role k m gs) gs (in_roles false gs (roles_kept role k l m e i h) (fields_kept false (role_at role k l fs) h n)))
    tree_kept role (moved_block {l = l} {m = m} {ts = ts} {us = us} e h) n = and_from (copies_among reads us) true (list_kept reads h (and_parts (copies_among reads ts) true n).0) refl
    tree_kept role (moved_case {f = f} {g = g} {ts = ts} {us = us} e h j) n =
        let d = and_parts (copies_by reads f) (copies_among reads ts && true) n in
        and_from (copies_by reads g) (copies_among reads us && true) (field_kept reads h d.0) (and_from (copies_among reads us) true (list_kept reads j (and_parts (copies_among reads ts) true d.1).0) refl)

    fields_kept : (p : Bool) (roles : ℕ → Role) {r : ℕ → Room} {ds : ℕ → List Declared} {c : ℕ → Take} {fs gs : Fields} → MovedFields fresh R r ds c fs gs → copies_in p roles fs ≡ true → copies_in p roles gs ≡ true
    fields_kept p roles moved_done n = refl
    fields_kept true roles (moved_then h j) n = fields_kept false (λ i. roles (suc i)) j n
    fields_kept false roles (moved_then {f = f} {g = g} {fs = fs} {gs = gs} h j) n =
        let d = and_parts (copies_by (roles zero) f) (copies_in false (λ i. roles (suc i)) fs) n in
        and_from (copies_by (roles zero) g) (copies_in false (λ i. roles (suc i)) gs) (field_kept (roles zero) h d.0) (fields_kept false (λ i. roles (suc i)) j d.1)

    field_kept : (role : Role) {r : Room} {ds : List Declared} {t : Take} {f g : Field} → MovedField fresh R r ds t f g → copies_by role f ≡ true → copies_by role g ≡ true
    field_kept role moved_missing n = refl
    field_kept role (moved_one h) n = tree_kept role h n
    field_kept role (moved_many h) n = trees_kept role h n
    field_kept role (moved_statements h) n = trees_kept role h n

    trees_kept : (role : Role) {r : Room} {ds : List Declared} {t : Take} {ts us : Trees} → MovedTrees fresh R r ds t ts us → copies_among role ts ≡ true → copies_among role us ≡ true
    trees_kept role moved_empty n = refl
    trees_kept role (moved_before {a = a} {b = b} {ts = ts} {us = us} h j) n = let d = and_parts (only_copies role a) (copies_among role ts) n in and_from (only_copies role b) (copies_among role us) (tree_kept role h d.0) (trees_kept role j d.1)

    pub list_kept : (role : Role) {r : Room} {ds : List Declared} {more : Bool} {ts us : Trees} → MovedList fresh R r ds more ts us → copies_among role ts ≡ true → copies_among role us ≡ true
    list_kept role moved_end n = refl
    list_kept role (moved_statement {a = a} {b = b} {ts = ts} {us = us} h j) n = let d = and_parts (only_copies role a) (copies_among role ts) n in and_from (only_copies role b) (copies_among role us) (tree_kept role h d.0) (list_kept role j d.1)
    list_kept role (moved_new {m = m} {es = es} e g j) n = rw (declarators_kept (binding_of (first_text m.texts)) (binding_of (first_text m.texts)) g refl) (list_kept role j n)
    list_kept role (moved_grown {l = l} {m = m} {cs = cs} {ts = ts} e i g j) n =
        let d = and_parts (copies_among (Binds (binding_of (first_text l.texts))) cs && true) (copies_among role ts) n in
        rw (declarators_kept (binding_of (first_text l.texts)) (binding_of (first_text m.texts)) g (and_parts (copies_among (Binds (binding_of (first_text l.texts))) cs) true d.0).0) (list_kept role j d.1)

-- OF ALL RULES

abbrev HasCopies : Tree → Type 0
HasCopies t = only_copies reads t ≡ true

-- what is asked of the nodes where chains are lowered
abbrev NoneInChains : Premise
NoneInChains n w t = Nameless t

inwards : Inwards NoneInChains
inwards n w k l fs h = nodes_below no_helper_in_chain (finished_fields fs) (and_parts (no_helper_in_chain k l (finished_fields fs)) (all_in_fields no_helper_in_chain (finished_fields fs)) h).1

module _ (o : EnvOptions) where
  abbrev StaysCopies : Ledger → Ledger → Open → Open → Type 0
  StaysCopies s s' x y = Known s x → Known s' y → (o.es2020.optional_chaining ≡ true → Nameless (finished x)) → HasCopies (finished x) → HasCopies (finished y)

  abbrev ChainRow : Site → Ledger → Spot → Ledger → Spot → Type 0
  ChainRow = RowRule (OptionalChainingRule o.assumptions.no_document_all)

  copies_after : (Q : Site → Ledger → Spot → Ledger → Spot → Type 0) (A : List Bound → Site → Whole → Tree → Tree → Type 0) (law : NodeRule Q A) → ((new : List Bound) (n : Site) (w : Whole) (a b : Tree) → A new n w a b → KeepsCopies a b) →
      (w : Whole) (x y : Tree) → ProgramWent law.hoisted (MovedProgram Q A law) w x y → HasCopies x → HasCopies y
  copies_after Q A law rows w x y h c =
      let before_it : HasCopies (program h.label h.directives h.body) = subst HasCopies h.first c in
      let d = and_parts (copies_among reads h.directives) (copies_among Top h.body && true) before_it in
      let after = list_kept (among_names (names_among h.new)) (Acted A h.new) (λ ds t a b r. rows h.new r.site r.whole a b r.rule) (made-other (names_among h.new) h.are_new.names) Top h.moved (and_parts (copies_among Top h.body) true d.1).0 in
      subst HasCopies (sym h.second) (and_from (copies_among reads h.directives) (copies_among Top h.after && true) d.0 (and_from (copies_among Top h.after) true after refl))

  node_stays : (Q : Site → Ledger → Spot → Ledger → Spot → Type 0) (A : List Bound → Site → Whole → Tree → Tree → Type 0) (law : NodeRule Q A) → ((new : List Bound) (n : Site) (w : Whole) (a b : Tree) → A new n w a b → KeepsCopies a b) → Does StaysCopies Q
  node_stays Q A law rows s s' x y h k m a c = copies_after Q A law rows (whole_in s) (finished x) (finished y) (program-moved Q A law h k.proper k.form k.class (known-fine k) (known-fine m) k.resolved) c

  -- a chain is lowered where no member of that object stands in it
  chains_stay : o.es2020.optional_chaining ≡ true → Does StaysCopies ChainRow
  chains_stay on s s' x y h k m a c =
      let R = ChainingRow o.assumptions.no_document_all in
      let shape = chaining-shape o.assumptions.no_document_all in
      let law = premised-rule R shape NoneInChains in
      copies_after (With ChainRow NoneInChains) (RowWith R shape NoneInChains) law (λ new n w a b h. chaining_copies o.assumptions.no_document_all n w new a b h.0.rule h.1) (whole_in s) (finished x) (finished y)
      (program-moved (With ChainRow NoneInChains) (RowWith R shape NoneInChains) law (premised ChainRow NoneInChains inwards h k.proper k.class (a on)) k.proper k.form k.class (known-fine k) (known-fine m) k.resolved) c

  chains_by : (on : Bool) → o.es2020.optional_chaining ≡ on → Does StaysCopies (chains_under o)
  chains_by true e = on-does StaysCopies o.es2020.optional_chaining ChainRow (chains_stay e)
  chains_by false e = off-does StaysCopies o.es2020.optional_chaining ChainRow e

  steps_stay : Does StaysCopies (StatementRules o)
  steps_stay = statement-does StaysCopies o (record {
    writing = λ s s' x y h k m a c. subst HasCopies (written-same Writing (writing-form o) (λ n s s' t u h. absurd (writes-lists h)) h k.proper).1 c;
    assigning = on-does StaysCopies o.es2021.logical_assignment_operators (RowRule LogicalAssignmentRule) (node_stays (RowRule LogicalAssignmentRule) (Row AssigningRow assigning-shape) (replacing-rule AssigningRow assigning-shape) (λ new n w a b h. assigning_copies n w new a b h.rule));
    coalescing = node_stays (RowRule NullishCoalescingRule) (Row CoalescingRow coalescing-shape) (replacing-rule CoalescingRow coalescing-shape) (λ new n w a b h. coalescing_copies n w new a b h.rule);
    chaining = chains_by o.es2020.optional_chaining refl;
    raising = on-does StaysCopies o.es2016.exponentiation_operator (RowRule ExponentiationRule) (node_stays (RowRule ExponentiationRule) (Row RaisingRow raising-shape) (replacing-rule RaisingRow raising-shape) (λ new n w a b h. raising_copies n w new a b h.rule));
    catching = node_stays CatchRule CatchRow catch-rule catch_copies;
    spreading = on-does StaysCopies (is_some o.es2018.object_rest_spread) (Replacing SpreadRule) (node_stays (Replacing SpreadRule) (Row SpreadRule spread-shape) (replacing-rule SpreadRule spread-shape) spread_copies);
  })

-- EXPORTS OF NAMESPACES

joined_copies : (r : Role) (vs ts : Trees) → copies_among r (joined_trees vs ts) ≡ (copies_among r vs && copies_among r ts)
joined_copies r empty ts = refl
joined_copies r (v before vs) ts = ap (λ (b : Bool). only_copies r v && b) (joined_copies r vs ts) ∙ regrouped (only_copies r v) (copies_among r vs) (copies_among r ts)
  where
    regrouped : (a b c : Bool) → (a && (b && c)) ≡ ((a && b) && c)
    regrouped true b c = refl
    regrouped false b c = refl

after_copies : (r : Role) (vs ts : Trees) → copies_among r (after_imports vs ts) ≡ (copies_among r vs && copies_among r ts)
after_copies r vs empty = with_true (copies_among r vs)
  where
    with_true : (b : Bool) → b ≡ (b && true)
    with_true true = refl
    with_true false = refl
after_copies r vs (t before ts) = at (is_import t) (after_copies r vs ts)
  where
    exchanged : (a b c : Bool) → (a && (b && c)) ≡ (b && (a && c))
    exchanged true b c = refl
    exchanged false true c = refl
    exchanged false false c = refl

    at : (b : Bool) → copies_among r (after_imports vs ts) ≡ (copies_among r vs && copies_among r ts) → copies_among r (if b then t before after_imports vs ts else joined_trees vs (t before ts)) ≡ (copies_among r vs && (only_copies r t && copies_among r ts))
    at true h = ap (λ (b : Bool). only_copies r t && b) h ∙ exchanged (only_copies r t) (copies_among r vs) (copies_among r ts)
    at false h = joined_copies r vs (t before ts)

split_copies : (r : Role) (x : Bound) → bytes_eq x.name helpers_ ≡ false → {ts us : Trees} → SplitHere x ts us → copies_among r ts ≡ true → copies_among r us ≡ true
split_copies r x other (split_here m e s attributes ts) h =
    let d = and_parts (only_copies Nothing e && (only_copies reads s && (copies_among reads attributes && true))) (copies_among r ts) h in
    let f = and_parts (only_copies Nothing e) (only_copies reads s && (copies_among reads attributes && true)) d.0 in
    let g = and_parts (only_copies reads s) (copies_among reads attributes && true) f.1 in
    rw (other, f.0, g.0, (and_parts (copies_among reads attributes) true g.1).0, d.1) refl
split_copies r x other (split_later t {ts = ts} {us = us} g) h = let d = and_parts (only_copies r t) (copies_among r ts) h in and_from (only_copies r t) (copies_among r us) d.0 (split_copies r x other g d.1)

program_stays : {s s' : Ledger} {x y : Open} → ProgramExported s s' x y → HasCopies (finished x) → HasCopies (finished y)
program_stays (in_the_list {l = l} {d = d} {p = p} {q = q} {x = x} {y = y} {a = a} {b = b} {ts = ts} {us = us} h) c =
    let r = split-by h in
    let parts = and_parts (copies_by reads (finished_field d)) (copies_among Top (whole_list p x a (finished_trees ts)) && true) c in
    let old = and_parts (copies_among Top (pending_statements p x a)) (copies_among Top (finished_trees ts)) (sym (after_copies Top (pending_statements p x a) (finished_trees ts)) ∙ (and_parts (copies_among Top (whole_list p x a (finished_trees ts))) true parts.1).0) in
    let other : bytes_eq r.name.name helpers_ ≡ false = made-other (r.name.name ∷ []) r.are_new.names r.name.name (this_one r.name.name) in
    let new : copies_among Top (whole_list p x a (finished_trees us)) ≡ true = after_copies Top (pending_statements p x a) (finished_trees us) ∙ and_from (copies_among Top (pending_statements p x a)) (copies_among Top (finished_trees us)) old.0 (split_copies Top r.name other r.split old.1) in
    let there = λ (p : Pending) (x : Option Bound) (a : Additions). (copies_by reads (finished_field d) && (copies_among Top (whole_list p x a (finished_trees us)) && true)) ≡ true in
    subst (λ (p : Pending). there p y b) (sym r.pending) (subst (λ (x : Option Bound). there p x b) (sym r.this) (subst (λ (a : Additions). there p x a) (sym r.top)
    (and_from (copies_by reads (finished_field d)) (copies_among Top (whole_list p x a (finished_trees us)) && true) parts.0 (and_from (copies_among Top (whole_list p x a (finished_trees us))) true new refl))))
  where
    this_one : (z : Text) → among_names (z ∷ []) z ≡ true
    this_one z = ap (λ (b : Bool). b || false) (bytes_eq-self z)

-- SO IT IS KEPT
pub keeps_copies : (o : EnvOptions) (p : Tree) → KeptInOrder o p HasCopies
keeps_copies o p = record {
  steps = λ s s' x y h k m a n c. steps_stay o s s' x y h k m n c;
  exports = λ s s' x y h k m c.
      let form = subst (λ (t : Tree). has_form s-Program t ≡ true) (finished-spread x) k.form in
      subst HasCopies (finished-spread y) (program_stays (program-exported (exported o h) form) (subst HasCopies (sym (finished-spread x)) c));
}
