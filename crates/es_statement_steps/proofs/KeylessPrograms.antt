-- Programs in which no call of the object of all helpers excludes keys: no name of theirs stands for keys, and steps of rows make no such call.
use Rattle.std.proofs.Common.{◌≡◌, ℕ, refl, sym, ap, subst, ◌∙◌, List, [], ◌++◌, arith}
use Rattle.std.proofs.lemmas.Bool.{and_parts, and_from}
use Rattle.std.specs.Prelude.{Bool, true, false, not, ◌&&◌, Option, Some, None, codes, if◌then◌else◌}
use Rattle.es_tree.specs.Names.{first_text, names_of}
use Rattle.es_tree.specs.Scopes.{Declared, own_text}
use Rattle.es_tree.specs.Tree.{Tree, node, Label, Fields, done, ◌then◌, Field, missing, one, many, statements, Trees, empty, ◌before◌}
use Rattle.es_tree.specs.Walks.{all_nodes, all_in_field, all_in_fields, all_in_trees}
use Rattle.es_tree.specs.Words.{Text}
use Rattle.es_tree.specs.declared.ast_type.AstType.{AstType}
use Rattle.es_tree.specs.declared.ast_type.AstType.TheVariants.{ArrayExpression, CallExpression, Identifier, MemberExpression, VariableDeclaration, VariableDeclarator}
use Rattle.es_tree.specs.HasForm.{has_form}
use Rattle.es_tree.specs.declared.table.Sort.TheVariants.{Program as s-Program}
use Rattle.es_runs.specs.Core.{Silent}
use Rattle.es_runs.specs.Runs.{program}
use Rattle.es_runs.specs.Machine.{Values}
use Rattle.es_resolution.specs.Declarations.{Bound}
use Rattle.es_resolution.proofs.Tests.{and-false}
use Rattle.es_steps.specs.CoreBridge.{names_among}
use Rattle.es_steps.specs.Steps.{Ledger, Site, Spot, Whole}
use Rattle.es_statement_runs.specs.Laws.{among_names}
use Rattle.es_statement_steps.proofs.MovedTests.{Alone, form_alone, list-so, name_alone}
use Rattle.es_statement_steps.proofs.ProgramMoves.{MovedProgram, ProgramWent}
use Rattle.es_statement_steps.proofs.StepMoves.{Acted, NodeRule}
use Rattle.es_statement_runs.specs.Helpers.{binds_constant, constant_by, constant_where, constants_by, constants_in, excludes_by, is_helper, is_this_name, key_places, key_places_all, key_places_at, key_places_in, occurrences, one_where, only_excludes, program_list, silent_names, texts_of}
use Rattle.es_statement_runs.specs.Helpers.Supply.{by_global}
use Rattle.es_statement_runs.specs.Names.{is_word}
use Rattle.es_statement_runs.specs.Places.{Take}
use Rattle.es_statement_runs.proofs.Moved.{Moved, MovedFields, MovedList, Room}
use Rattle.es_statement_runs.proofs.Moved.Moved.{moved_block, moved_case, moved_node, moved_place}
use Rattle.es_statement_runs.proofs.Moved.MovedField.{moved_many, moved_missing, moved_one, moved_statements}
use Rattle.es_statement_runs.proofs.Moved.MovedFields.{moved_done, moved_then}

abbrev pub without_ : Text
without_ = codes "objectWithoutProperties"

-- a call of the helper that excludes keys
abbrev pub is_excluding : Tree → Bool
is_excluding f = is_helper by_global [] without_ f

abbrev pub excludes : AstType → Fields → Bool
excludes CallExpression (one f then fs) = is_excluding f
excludes _ fs = false

abbrev pub excludes_none : AstType → Label → Fields → Bool
excludes_none k l fs = not (excludes k fs)

abbrev pub IsKeyless : Tree → Type 0
IsKeyless t = all_nodes excludes_none t ≡ true

-- NO NAME STANDS FOR KEYS

not_so : (b : Bool) → not b ≡ true → b ≡ false
not_so true h = absurd (cc h)
not_so false h = refl

none_by : (x : Text) (k : AstType) (fs : Fields) → excludes k fs ≡ false → excludes_by by_global [] x k fs ≡ false
none_by x CallExpression (one f then (many (e before (key before empty)) then fs)) h = ap (λ b. b && is_this_name x key) h
none_by x _ fs h = refl

module _ (x : Text) where
  mutual
    no_places : (t : Tree) → IsKeyless t → key_places by_global [] x t ≡ 0
    no_places (node k l fs) h =
        let d = and_parts (excludes_none k l fs) (all_in_fields excludes_none fs) h in
        let own : one_where (excludes_by by_global [] x k fs) ≡ 0 = ap one_where (none_by x k fs (not_so (excludes k fs) d.0)) in
        let rest : key_places_in by_global [] x fs ≡ 0 = no_places_in fs d.1 in
        omega arith

    no_places_in : (fs : Fields) → all_in_fields excludes_none fs ≡ true → key_places_in by_global [] x fs ≡ 0
    no_places_in done h = refl
    no_places_in (f then fs) h =
        let d = and_parts (all_in_field excludes_none f) (all_in_fields excludes_none fs) h in
        let first : key_places_at by_global [] x f ≡ 0 = no_places_at f d.0 in
        let rest : key_places_in by_global [] x fs ≡ 0 = no_places_in fs d.1 in
        omega arith

    no_places_at : (f : Field) → all_in_field excludes_none f ≡ true → key_places_at by_global [] x f ≡ 0
    no_places_at missing h = refl
    no_places_at (one t) h = no_places t h
    no_places_at (many ts) h = no_places_all ts h
    no_places_at (statements ts) h = no_places_all ts h

    no_places_all : (ts : Trees) → all_in_trees excludes_none ts ≡ true → key_places_all by_global [] x ts ≡ 0
    no_places_all empty h = refl
    no_places_all (t before ts) h =
        let d = and_parts (all_nodes excludes_none t) (all_in_trees excludes_none ts) h in
        let first : key_places by_global [] x t ≡ 0 = no_places t d.0 in
        let rest : key_places_all by_global [] x ts ≡ 0 = no_places_all ts d.1 in
        omega arith

module _ (p : Tree) (keyless : IsKeyless p) where
  none_where : (y : Text) (o : Option Values) → constant_where y false o ≡ []
  none_where y (Some vs) = refl
  none_where y None = refl

  none_constant : (d : Tree) → constant_by by_global [] p d ≡ []
  none_constant (node VariableDeclarator l (one (node Identifier k gs) then (one (node ArrayExpression m es) then done))) =
      ap (λ n. constant_where (first_text k.texts) (only_excludes n (occurrences (first_text k.texts) (names_of p))) (texts_of es)) (no_places (first_text k.texts) p keyless) ∙ none_where (first_text k.texts) (texts_of es)
  none_constant _ = refl

  none_constants : (ds : Trees) → constants_by by_global [] p ds ≡ []
  none_constants empty = refl
  none_constants (d before ds) = λ i. none_constant d i ++ none_constants ds i

  none_if : (b : Bool) (es : List (Text × Silent)) → es ≡ [] → (if b then es else []) ≡ []
  none_if true es h = h
  none_if false es h = refl

  none_listed : (ts : Trees) → constants_in by_global [] p ts ≡ []
  none_listed empty = refl
  none_listed (node VariableDeclaration l (many ds then fs) before ts) = λ i. none_if (binds_constant (first_text l.texts)) (constants_by by_global [] p ds) (none_constants ds) i ++ none_listed ts i
  none_listed (t before ts) = none_listed ts

  pub keyless_silent : silent_names by_global p ≡ []
  keyless_silent = none_listed (program_list p)

-- STEPS

-- what takes a node's place is no name, no member of the object of all helpers and no new key of it, and makes no such call
pub record KeepsKeyless (a b : Tree) : Type 0 where
  pub callee : is_excluding b ≡ false
  pub name : is_this_name (codes "babelHelpers") b ≡ false
  pub key : is_word without_ (own_text a) ≡ false → is_word without_ (own_text b) ≡ false
  pub keyless : IsKeyless a → IsKeyless b

not_false : (b : Bool) → b ≡ false → not b ≡ true
not_false true h = absurd (cc h)
not_false false h = refl

both_false : (a b c d : Bool) → (a && b) ≡ false → (a ≡ false → c ≡ false) → (b ≡ false → d ≡ false) → (c && d) ≡ false
both_false false b c d h f g = ap (λ e. e && d) (f refl)
both_false true b c d h f g = ap (λ e. c && e) (g h) ∙ and-false c

module _ (fresh : Text → Bool) (R : List Declared → Take → Tree → Tree → Type 0) (rows : (ds : List Declared) (t : Take) (a b : Tree) → R ds t a b → KeepsKeyless a b) where
  name_kept : {r : Room} {ds : List Declared} {t : Take} {a b : Tree} → Moved fresh R r ds t a b → is_this_name (codes "babelHelpers") a ≡ false → is_this_name (codes "babelHelpers") b ≡ false
  name_kept (moved_place e h) n = (rows _ _ _ _ h).name
  name_kept (moved_node {k = k} {l = l} {m = m} {fs = fs} {gs = gs} e i h) n = at k n
    where
      at : (k : AstType) → is_this_name (codes "babelHelpers") (node k l fs) ≡ false → is_this_name (codes "babelHelpers") (node k m gs) ≡ false
      at Identifier n = rw e n
      at _ n = refl
  name_kept (moved_block e h) n = refl
  name_kept (moved_case e g h) n = refl

  key_kept : {r : Room} {ds : List Declared} {t : Take} {a b : Tree} → Moved fresh R r ds t a b → is_word without_ (own_text a) ≡ false → is_word without_ (own_text b) ≡ false
  key_kept (moved_place e h) n = (rows _ _ _ _ h).key n
  key_kept (moved_node e i h) n = rw e n
  key_kept (moved_block e h) n = rw e n
  key_kept (moved_case e g h) n = rw e n

  member_kept : {r : ℕ → Room} {d : ℕ → List Declared} {c : ℕ → Take} {fs gs : Fields} (l m : Label) → MovedFields fresh R r d c fs gs → is_excluding (node MemberExpression l fs) ≡ false → is_excluding (node MemberExpression m gs) ≡ false
  member_kept l m (moved_then (moved_one {a = o} {b = o'} h) (moved_then (moved_one {a = x} {b = x'} g) k)) n =
      both_false (is_this_name (codes "babelHelpers") o) (is_word without_ (own_text x)) (is_this_name (codes "babelHelpers") o') (is_word without_ (own_text x')) n (name_kept h) (key_kept g)
  member_kept l m moved_done n = refl
  member_kept l m (moved_then moved_missing k) n = refl
  member_kept l m (moved_then (moved_many h) k) n = refl
  member_kept l m (moved_then (moved_statements h) k) n = refl
  member_kept l m (moved_then (moved_one h) moved_done) n = refl
  member_kept l m (moved_then (moved_one h) (moved_then moved_missing k)) n = refl
  member_kept l m (moved_then (moved_one h) (moved_then (moved_many g) k)) n = refl
  member_kept l m (moved_then (moved_one h) (moved_then (moved_statements g) k)) n = refl

  callee_kept : {r : Room} {ds : List Declared} {t : Take} {a b : Tree} → Moved fresh R r ds t a b → is_excluding a ≡ false → is_excluding b ≡ false
  callee_kept (moved_place e h) n = (rows _ _ _ _ h).callee
  callee_kept (moved_node {k = MemberExpression} {l = l} {m = m} e i h) n = member_kept l m h n
  callee_kept (moved_node {k = Identifier} e i h) n = refl
  callee_kept (moved_node e i h) n = refl
  callee_kept (moved_block e h) n = refl
  callee_kept (moved_case e g h) n = refl

  own_kept : {r : ℕ → Room} {d : ℕ → List Declared} {c : ℕ → Take} {fs gs : Fields} (k : AstType) → MovedFields fresh R r d c fs gs → excludes k fs ≡ false → excludes k gs ≡ false
  own_kept CallExpression (moved_then (moved_one h) k) n = callee_kept h n
  own_kept CallExpression moved_done n = refl
  own_kept CallExpression (moved_then moved_missing k) n = refl
  own_kept CallExpression (moved_then (moved_many h) k) n = refl
  own_kept CallExpression (moved_then (moved_statements h) k) n = refl
  own_kept _ h n = refl

  own_passes : (r : ℕ → Room) (d : ℕ → List Declared) (c : ℕ → Take) (k : AstType) (l m : Label) (fs gs : Fields) → m.texts ≡ l.texts → MovedFields fresh R r d c fs gs → all_in_fields name_alone gs ≡ true → excludes_none k l fs ≡ true → excludes_none k m gs ≡ true
  own_passes r d c k l m fs gs e h q n = not_false (excludes k gs) (own_kept k h (not_so (excludes k fs) n))

  pub keyless_list : {r : Room} {ds : List Declared} {more : Bool} {ts us : Trees} → MovedList fresh R r ds more ts us → all_in_trees excludes_none ts ≡ true → all_in_trees name_alone us ≡ true → all_in_trees excludes_none us ≡ true
  keyless_list = list-so fresh R excludes_none (λ ds t a b h. (rows ds t a b h).keyless) own_passes (λ l fs. (refl, (refl, (refl, refl)))) (λ l m fs gs e h. refl) (λ l fs e. refl)

-- A STEP OF SUCH A ROW
pub keyless_after : (Q : Site → Ledger → Spot → Ledger → Spot → Type 0) (A : List Bound → Site → Whole → Tree → Tree → Type 0) (law : NodeRule Q A) → ((new : List Bound) (n : Site) (w : Whole) (a b : Tree) → A new n w a b → KeepsKeyless a b) →
    (w : Whole) (x y : Tree) → ProgramWent law.hoisted (MovedProgram Q A law) w x y → has_form s-Program y ≡ true → IsKeyless x → IsKeyless y
keyless_after Q A law rows w x y h form keyless =
    let first_so : all_nodes excludes_none (program h.label h.directives h.body) ≡ true = subst IsKeyless h.first keyless in
    let alone : all_nodes name_alone (program h.label h.directives h.after) ≡ true = subst Alone h.second (form_alone y form) in
    let b = and_parts (all_in_trees excludes_none h.directives) (all_in_trees excludes_none h.body && true) first_so in
    let c = and_parts (all_in_trees name_alone h.directives) (all_in_trees name_alone h.after && true) alone in
    let after : all_in_trees excludes_none h.after ≡ true =
    keyless_list (among_names (names_among h.new)) (Acted A h.new) (λ ds t p q r. rows h.new r.site r.whole p q r.rule) h.moved (and_parts (all_in_trees excludes_none h.body) true b.1).0 (and_parts (all_in_trees name_alone h.after) true c.1).0 in
    subst IsKeyless (sym h.second) (and_from (all_in_trees excludes_none h.directives) (all_in_trees excludes_none h.after && true) b.0 (and_from (all_in_trees excludes_none h.after) true after refl))
