-- Programs that call no helper but that of object spread run with the object of all helpers as with that helper alone.
use Rattle.std.proofs.Common.{◌≡◌, ◌∙◌, ℕ, zero, suc, refl, sym, ap, List, [], ◌∷◌}
use Rattle.std.proofs.lemmas.Bool.{and_parts, not-true}
use Rattle.std.proofs.lemmas.Slice.Eq.{bytes_eq-Decides}
use Rattle.std.specs.Prelude.{◌&&◌, Bool, true, false, not, Option, bytes_eq, codes, if◌then◌else◌}
use Rattle.es_tree.specs.Fresh.{is_among}
use Rattle.es_tree.specs.Names.{first_text, flag_at}
use Rattle.es_tree.specs.Scopes.{Declared}
use Rattle.es_tree.specs.Tree.{Tree, node, Label, Fields, done, ◌then◌, Field, missing, one, many, statements, Trees, empty, ◌before◌}
use Rattle.es_tree.specs.Words.{Text}
use Rattle.es_tree.specs.declared.ast_type.AstType.{AstType}
use Rattle.es_tree.specs.declared.ast_type.AstType.TheVariants.{AssignmentExpression, CallExpression, Identifier, MemberExpression, VariableDeclaration, VariableDeclarator}
use Rattle.es_runs.specs.Core.{Binding, Meaning, Silent, World, call_of, flag, flag_after, is_free, meaning_of, of_one_many, value}
use Rattle.es_runs.specs.Core.Binding.{free}
use Rattle.es_runs.specs.Core.Form.{word}
use Rattle.es_runs.specs.Machine.{Move, Result, Value, Values}
use Rattle.es_runs.specs.Machine.Value.{bound, own}
use Rattle.es_runs.specs.Machine.Values.{none, ◌and◌}
use Rattle.es_runs.specs.Machine.OwnValue.{count, pattern_error, suppressed}
use Rattle.es_runs.specs.Machine.Move.{answer, throw}
use Rattle.es_runs.specs.Machine.Cell.{holds}
use Rattle.es_runs.specs.Machine.State.{state}
use Rattle.es_runs.specs.Runs.{binding_of, cells_of, scope_of}
use Rattle.es_statement_runs.specs.Calls.{member_by}
use Rattle.es_statement_runs.specs.Helpers.{entry}
use Rattle.es_statement_runs.specs.Helpers.Supply.{by_global, spread_by_global}
use Rattle.es_statement_runs.specs.HelperMembers.{first_is_helpers, no_helper_member}
use Rattle.es_statement_runs.specs.Kinds.{inside, label_in, portion, portions, scope_by, sense, sense_of, senses}
use Rattle.es_statement_runs.specs.Names.{declared_at_top, names_of_all, own_names, own_use}
use Rattle.es_statement_runs.specs.Places.{placed_at}
use Rattle.es_statement_runs.specs.Programs.{names_no_cell}
use Rattle.es_statement_runs.specs.Runs.{are_proper, are_proper_moves, is_proper, silent_or, start_cells}
use Rattle.es_statement_runs.specs.Scopes.{is_own_cell, stack_cell, turns_cell}
use Rattle.es_statement_runs.specs.Senses.{Place, Portion, Sense, core_parts, said_in}
use Rattle.es_statement_runs.specs.Senses.More.{helper_call, nothing_more}
use Rattle.es_statement_runs.specs.Senses.Portion.{alone}
use Rattle.es_statement_runs.specs.Stacks.{Scope}
use Rattle.es_statement_runs.specs.StatementParts.{first_more}
use Rattle.es_statement_runs.proofs.OwnCells.{own_apart}
use Rattle.es_runs.proofs.Temporary.{bytes_eq-flip}
use Rattle.es_stackless_runs.specs.Laws.{LawStackless, are_declarators, are_stackless, calls_spread, declares_by, helpers_, is_plain_node, is_spread_callee, is_stackless, moves_stackless, only_spreads, only_spreads_among, only_spreads_by, only_spreads_in}
use Rattle.es_stackless_runs.proofs.Machine.{CellLacks, Lacks, both_lack, first_cells, one_of, same_result}
use Rattle.es_stackless_runs.proofs.CoreKinds.{NamedSo, world_in}
use Rattle.es_stackless_runs.proofs.CoreKinds.AllBy.{no_more, one_more}
use Rattle.es_stackless_runs.proofs.Forms.{apart-form}
use Rattle.es_stackless_runs.proofs.EveryKind.{NodeKnown, TwoPlaces, binding_lacks, core_matching, node_matching, two_inside}
use Rattle.es_stackless_runs.proofs.EveryKind.TwoPlaces.{two_places}
use Rattle.es_stackless_runs.proofs.Senses.{BindingLacks, NoStack, PortionMatching, PortionsMatching, SenseMatching, SensesMatching, declarator_none, has, nothing_here, spread2_matching}
use Rattle.es_stackless_runs.proofs.Senses.PortionMatching.{alone_matching, gap_matching, rows_matching}

abbrev spread_ : Text
spread_ = codes "objectSpread2"

-- A CALL OF THE HELPER, by kind, label and fields
data SpreadCall : AstType → Label → Fields → Type 0 where
  spread_call : {l j i m : Label} {gs hs fs : Fields} → flag_at 0 l.flags ≡ false → flag_at 0 j.flags ≡ false → flag_at 1 j.flags ≡ false → first_text i.texts ≡ helpers_ → first_text m.texts ≡ spread_ →
      SpreadCall CallExpression l (one (node MemberExpression j (one (node Identifier i gs) then (one (node Identifier m hs) then done))) then fs)

callee_so : (l : Label) (f : Tree) (fs : Fields) → flag_at 0 l.flags ≡ false → is_spread_callee f ≡ true → SpreadCall CallExpression l (one f then fs)
callee_so l (node MemberExpression j (one (node Identifier i gs) then (one (node Identifier m hs) then done))) fs mark e =
    let d = and_parts (not (flag_at 0 j.flags) && not (flag_at 1 j.flags)) (bytes_eq (first_text i.texts) helpers_ && bytes_eq (first_text m.texts) spread_) e in
    let a = and_parts (not (flag_at 0 j.flags)) (not (flag_at 1 j.flags)) d.0 in
    let b = and_parts (bytes_eq (first_text i.texts) helpers_) (bytes_eq (first_text m.texts) spread_) d.1 in
    spread_call mark (not-true (flag_at 0 j.flags) a.0) (not-true (flag_at 1 j.flags) a.1) ((bytes_eq-Decides (first_text i.texts) helpers_).0 b.0) ((bytes_eq-Decides (first_text m.texts) spread_).0 b.1)
callee_so l _ fs mark e = absurd (cc e)

call_so : (k : AstType) (l : Label) (fs : Fields) → calls_spread k l fs ≡ true → SpreadCall k l fs
call_so CallExpression l (one f then fs) e = let d = and_parts (not (flag_at 0 l.flags)) (is_spread_callee f) e in callee_so l f fs (not-true (flag_at 0 l.flags) d.0) d.1
call_so _ l fs e = absurd (cc e)

-- the flags as the machine reads them
first_flag : (bs : List Bool) → flag_at 0 bs ≡ flag bs
first_flag [] = refl
first_flag (b ∷ bs) = refl

second_flag : (bs : List Bool) → flag_at 1 bs ≡ flag_after bs
second_flag [] = refl
second_flag (b ∷ bs) = first_flag bs

-- a callee says that it is that helper, by both supplies
spread_says : (w : World) (m : Meaning) → is_free (w.scope helpers_) ≡ true → (member_by (placed_at spread_by_global w [] []) nothing_more (word helpers_) (word spread_) m).more ≡ helper_call spread_
spread_says w m k = rw k refl

global_says : (w : World) (m : Meaning) → is_free (w.scope helpers_) ≡ true → (member_by (placed_at by_global w [] []) (said_in by_global (w.scope helpers_)) (word helpers_) (word spread_) m).more ≡ helper_call spread_
global_says w m k = at (w.scope helpers_) k
  where
    at : (b : Binding) → is_free b ≡ true → (member_by (placed_at by_global w [] []) (said_in by_global b) (word helpers_) (word spread_) m).more ≡ helper_call spread_
    at free h = rw k refl
    at _ h = absurd (cc h)

module _ (w : World) (j i m : Label) (gs hs : Fields) (a : flag_at 0 j.flags ≡ false) (b : flag_at 1 j.flags ≡ false) (e : first_text i.texts ≡ helpers_) (n : first_text m.texts ≡ spread_) (unbound : is_free (w.scope helpers_) ≡ true) where
  abbrev callee : Tree
  callee = node MemberExpression j (one (node Identifier i gs) then (one (node Identifier m hs) then done))

  callee_spread : (sense (placed_at spread_by_global w [] []) callee).more ≡ helper_call spread_
  callee_spread = rw (sym (first_flag j.flags) ∙ a, sym (second_flag j.flags) ∙ b, e, n) (spread_says w _ unbound)

  callee_global : (sense (placed_at by_global w [] []) callee).more ≡ helper_call spread_
  callee_global = rw (sym (first_flag j.flags) ∙ a, sym (second_flag j.flags) ∙ b, e, n) (global_says w _ unbound)

module _ (this : Value) (lacks : Lacks this) where
  -- a call of that helper
  spread_called : (scope : Text → Binding) (ls : List Text) (x : Text) (ts : List (Option Text)) (fs : List Bool) (block : Scope) (f d : Sense) {xs ys : List Portion} → flag fs ≡ false → f.more ≡ helper_call spread_ → d.more ≡ helper_call spread_ → PortionsMatching xs ys →
      SenseMatching (sense_of (placed_at spread_by_global (world_in scope this) ls x) CallExpression ts fs block (world_in scope this) (of_one_many (call_of (world_in scope this) (flag fs)) (core_parts (alone f ∷ xs))) (alone f ∷ xs))
      (sense_of (placed_at by_global (world_in scope this) ls x) CallExpression ts fs block (world_in scope this) (of_one_many (call_of (world_in scope this) (flag fs)) (core_parts (alone d ∷ ys))) (alone d ∷ ys))
  spread_called scope ls x ts fs block f d flags a b (one_more (rows_matching h) no_more) = rw (flags, a, b) (spread2_matching scope this lacks h)
  spread_called scope ls x ts fs block f d flags a b _ = nothing_here

  -- WHAT ELSE IS KNOWN of nodes

  known_assignment : (p q : Place) (ts : List (Option Text)) (fs : List Bool) (n : Meaning) (ps qs : List Portion) → NodeKnown this lacks p q AssignmentExpression ts fs (meaning_of p.world AssignmentExpression ts fs (core_parts ps)) n ps qs
  known_assignment p q ts fs n (alone l ∷ (alone e ∷ [])) qs = refl
  known_assignment p q ts fs n _ qs = tt

  known_member : (p q : Place) (ts : List (Option Text)) (bs : List Bool) (m : Meaning) (ps : List Portion) (fs : Fields) (at : ℕ → Place) → first_is_helpers fs ≡ false → NodeKnown this lacks p q MemberExpression ts bs m (meaning_of q.world MemberExpression ts bs (core_parts (portions at fs))) ps (portions at fs)
  known_member p q ts bs m ps (one o then (one k then done)) at h = (apart-form o (at zero) h, refl)
  known_member p q ts bs m ps _ at h = tt

  declarator_says : (scope : Text → Binding) (ls : List Text) (x : Text) (l : Label) (fs : Fields) → NoStack (sense (placed_at by_global (world_in scope this) ls x) (node VariableDeclarator l fs)).more
  declarator_says scope ls x l (one y then (missing then done)) = tt
  declarator_says scope ls x l (one y then (one e then done)) = declarator_none scope this lacks _ _ _ _ ls x
  declarator_says scope ls x l _ = tt

  first_says : (scope : Text → Binding) (ls : List Text) (x : Text) (ts : Trees) → are_declarators ts ≡ true → NoStack (first_more (senses (placed_at by_global (world_in scope this) ls x) ts))
  first_says scope ls x empty h = tt
  first_says scope ls x (node VariableDeclarator l fs before ts) h = declarator_says scope ls x l fs
  first_says scope ls x (node _ l fs before ts) h = absurd (cc h)

  known_declaration : (p q : Place) (ts : List (Option Text)) (bs : List Bool) (m n : Meaning) (ps : List Portion) (fs : Fields) (scope : Text → Binding) (ls : List Text) (x : Text) → declares_by VariableDeclaration fs ≡ true → NodeKnown this lacks p q VariableDeclaration ts bs m n ps (portions (λ i. placed_at by_global (world_in scope this) ls x) fs)
  known_declaration p q ts bs m n ps (many ds then done) scope ls x h = first_says scope ls x ds h
  known_declaration p q ts bs m n ps (statements ds then done) scope ls x h = first_says scope ls x ds h
  known_declaration p q ts bs m n ps _ scope ls x h = tt

  name_here : (k : AstType) (l : Label) (fs : Fields) → names_no_cell k l fs ≡ true → NamedSo k l.texts
  name_here Identifier l fs h = bytes_eq-flip (first_text l.texts) stack_cell ∙ own_apart (first_text l.texts) stack_cell (not-true (is_own_cell (first_text l.texts)) h) refl
  name_here _ l fs h = tt

  -- what is known of the fields, or of those but the first
  abbrev PassMatching : Bool → (ps qs : ℕ → Place) → Fields → Type 0
  PassMatching true ps qs (f then fs) = PortionsMatching (portions (λ i. ps (suc i)) fs) (portions (λ i. qs (suc i)) fs)
  PassMatching true ps qs done = Unit {0}
  PassMatching false ps qs fs = PortionsMatching (portions ps fs) (portions qs fs)

  -- EVERY TREE

  module _ (scope : Text → Binding) (ls : List Text) (x : Text) where
    abbrev source : Place
    source = placed_at spread_by_global (world_in scope this) ls x

    abbrev target : Place
    target = placed_at by_global (world_in scope this) ls x

    abbrev meant : AstType → Label → Fields → Meaning
    meant k l fs = meaning_of target.world k l.texts l.flags (core_parts (portions (inside target k l.texts (own_names k fs) (label_in k fs)) fs))

    known_here : (k : AstType) (l : Label) (fs : Fields) → no_helper_member k l fs ≡ true → declares_by k fs ≡ true → (m : Meaning) (ps : List Portion) → m ≡ meaning_of source.world k l.texts l.flags (core_parts ps) →
        NodeKnown this lacks source target k l.texts l.flags m (meaning_of target.world k l.texts l.flags (core_parts (portions (inside target k l.texts (own_names k fs) (label_in k fs)) fs))) ps (portions (inside target k l.texts (own_names k fs) (label_in k fs)) fs)
    known_here AssignmentExpression l fs h g m ps e = rw e (known_assignment source target l.texts l.flags (meant AssignmentExpression l fs) ps _)
    known_here MemberExpression l fs h g m ps e = known_member source target l.texts l.flags m ps fs _ (not-true (first_is_helpers fs) h)
    known_here VariableDeclaration l fs h g m ps e = known_declaration source target l.texts l.flags m (meant VariableDeclaration l fs) ps fs scope [] (first_text l.texts) g
    known_here _ l fs h g m ps e = tt

    -- a node whose fields match
    node_so : (k : AstType) (l : Label) (fs : Fields) → names_no_cell k l fs ≡ true → no_helper_member k l fs ≡ true → is_among (names_of_all (own_names k fs)) helpers_ ≡ false → declares_by k fs ≡ true → ((y : Text) → BindingLacks (scope y)) → is_free (scope helpers_) ≡ true →
        (b : Bool) → calls_spread k l fs ≡ b → PassMatching b (inside source k l.texts (own_names k fs) (label_in k fs)) (inside target k l.texts (own_names k fs) (label_in k fs)) fs → SenseMatching (sense source (node k l fs)) (sense target (node k l fs))
    node_so k l fs name member other declares b f false e parts =
        let here : TwoPlaces this source target = two_places b f in
        node_matching this lacks here (two_inside this lacks (own_names k fs) other k l.texts (label_in k fs) scope ls x b f 1) k l.texts l.flags (scope_by (own_names k fs) (own_use k fs)) (known_here k l fs member declares _ _ refl) (core_matching this lacks here k l.texts l.flags (name_here k l fs name) parts) parts
    node_so k l fs name member other declares b f true e parts = at (call_so k l fs e) parts
      where
        at : {k : AstType} {l : Label} {fs : Fields} → SpreadCall k l fs → PassMatching true (inside source k l.texts (own_names k fs) (label_in k fs)) (inside target k l.texts (own_names k fs) (label_in k fs)) fs → SenseMatching (sense source (node k l fs)) (sense target (node k l fs))
        at (spread_call {l = l} {j = j} {i = i} {m = m} {gs = gs} {hs = hs} {fs = fs} mark c d object named) rest =
            spread_called scope ls x l.texts l.flags (scope_by [] false) _ _ (sym (first_flag l.flags) ∙ mark) (callee_spread (world_in scope this) j i m gs hs c d object named f) (callee_global (world_in scope this) j i m gs hs c d object named f) rest

  mutual
    pub tree_matching : (t : Tree) → only_spreads t ≡ true → {p q : Place} → TwoPlaces this p q → SenseMatching (sense p t) (sense q t)
    tree_matching (node k l fs) h (two_places {scope = scope} {ls = ls} {x = x} b f) =
        let d = and_parts (is_plain_node k l fs) (only_spreads_in (calls_spread k l fs) fs) h in
        let e = and_parts (names_no_cell k l fs) (no_helper_member k l fs && (not (is_among (names_of_all (own_names k fs)) helpers_) && declares_by k fs)) d.0 in
        let g = and_parts (no_helper_member k l fs) (not (is_among (names_of_all (own_names k fs)) helpers_) && declares_by k fs) e.1 in
        let i = and_parts (not (is_among (names_of_all (own_names k fs)) helpers_)) (declares_by k fs) g.1 in
        let other = not-true (is_among (names_of_all (own_names k fs)) helpers_) i.0 in
        node_so scope ls x k l fs e.0 g.0 other i.1 b f (calls_spread k l fs) refl (passing_matching (calls_spread k l fs) fs d.1 (two_inside this lacks (own_names k fs) other k l.texts (label_in k fs) scope ls x b f))

    passing_matching : (b : Bool) (fs : Fields) → only_spreads_in b fs ≡ true → {ps qs : ℕ → Place} → ((i : ℕ) → TwoPlaces this (ps i) (qs i)) → PassMatching b ps qs fs
    passing_matching true done h e = tt
    passing_matching false done h e = no_more
    passing_matching true (f then fs) h e = passing_matching false fs h (λ i. e (suc i))
    passing_matching false (f then fs) h e = let d = and_parts (only_spreads_by f) (only_spreads_in false fs) h in one_more (field_matching f d.0 (e zero)) (passing_matching false fs d.1 (λ i. e (suc i)))

    field_matching : (f : Field) → only_spreads_by f ≡ true → {p q : Place} → TwoPlaces this p q → PortionMatching (portion p f) (portion q f)
    field_matching missing h e = gap_matching
    field_matching (one t) h e = alone_matching (tree_matching t h e)
    field_matching (many ts) h e = rows_matching (trees_matching ts h e)
    field_matching (statements ts) h e = rows_matching (trees_matching ts h e)

    trees_matching : (ts : Trees) → only_spreads_among ts ≡ true → {p q : Place} → TwoPlaces this p q → SensesMatching (senses p ts) (senses q ts)
    trees_matching empty h e = no_more
    trees_matching (t before ts) h e = let d = and_parts (only_spreads t) (only_spreads_among ts) h in one_more (tree_matching t d.0 e) (trees_matching ts d.1 e)

-- AT THE START

mutual
  proper_stackless : (v : Value) → is_proper v ≡ true → is_stackless v ≡ true
  proper_stackless (bound f r vs) h =
      let d = and_parts (is_proper f && is_proper r) (are_proper vs) h in
      let e = and_parts (is_proper f) (is_proper r) d.0 in
      both_lack (both_lack (proper_stackless f e.0) (proper_stackless r e.1)) (proper_list vs d.1)
  proper_stackless (own pattern_error) h = refl
  proper_stackless (own (suppressed v u)) h = let d = and_parts (is_proper v) (is_proper u) h in both_lack (proper_stackless v d.0) (proper_stackless u d.1)
  proper_stackless (own _) h = absurd (cc h)
  proper_stackless _ h = refl

  proper_list : (vs : Values) → are_proper vs ≡ true → are_stackless vs ≡ true
  proper_list none h = refl
  proper_list (v and vs) h = let d = and_parts (is_proper v) (are_proper vs) h in both_lack (proper_stackless v d.0) (proper_list vs d.1)

proper_moves : (ms : List Move) → are_proper_moves ms ≡ true → moves_stackless ms ≡ true
proper_moves [] h = refl
proper_moves (answer v ∷ ms) h = let d = and_parts (is_proper v) (are_proper_moves ms) h in both_lack (proper_stackless v d.0) (proper_moves ms d.1)
proper_moves (throw v ∷ ms) h = let d = and_parts (is_proper v) (are_proper_moves ms) h in both_lack (proper_stackless v d.0) (proper_moves ms d.1)

scope_lacks : (ds : List Declared) (x : Text) → BindingLacks (scope_of ds x)
scope_lacks [] x = tt
scope_lacks (d ∷ ds) x = at (bytes_eq x d.name) (scope_lacks ds x)
  where
    at : (b : Bool) → BindingLacks (scope_of ds x) → BindingLacks (if b then binding_of d.kind else scope_of ds x)
    at true h = binding_lacks d.kind
    at false h = h

start_lacks : (n : ℕ) (ds : List Declared) (x : Text) → CellLacks (start_cells n ds x)
start_lacks n ds x = one_of (bytes_eq x turns_cell) (holds (own (count n))) (cells_of ds x) refl (first_cells ds x)

not_false : (c : Bool) → not c ≡ false → c ≡ true
not_false true e = refl
not_false false e = absurd (cc e)

pub law_stackless_proof : LawStackless
law_stackless_proof n t this moves only silents unbound proper moved =
    let ds = declared_at_top t in
    let lacks = proper_stackless this proper in
    let matched = tree_matching this lacks t only (two_places {scope = scope_of ds} {ls = []} {x = []} (scope_lacks ds) (not_false (is_free (scope_of ds helpers_)) unbound)) in
    let same = same_result (has (scope_of ds) this lacks matched (state (start_cells n ds) moves []) ((λ x e. start_lacks n ds x), proper_moves moves moved)) in
    let with : List (Text × Silent) → Result Value = λ es. let w : World = record (world_in (scope_of ds) this) { scope = λ y. silent_or (entry es y) (scope_of ds y) } in value w (sense (placed_at by_global w [] []) t).core (state (start_cells n ds) moves []) in
    same ∙ sym (ap with silents)
