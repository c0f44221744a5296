-- A program that names `babelHelpers` in calls of the helper of object spread alone runs with the object of all helpers as where that helper is the only one.
use Rattle.std.proofs.Common.{◌≡◌, ◌∙◌, ℕ, zero, suc, refl, sym, ap, subst, List, [], ◌∷◌}
use Rattle.std.proofs.lemmas.Bool.{and_from, and_parts, and_right, not-true}
use Rattle.std.proofs.lemmas.Slice.Eq.{bytes_eq-Decides}
use Rattle.std.specs.Prelude.{◌&&◌, ◌||◌, Bool, true, false, not, Option, Some, None, bytes_eq, codes}
use Rattle.es_tree.specs.Fresh.{is_among}
use Rattle.es_tree.specs.Helpers.{helper_text}
use Rattle.es_tree.specs.HasForm.{has_form, is_of_sort, trees_form}
use Rattle.es_tree.specs.Names.{first_text, flag_at}
use Rattle.es_tree.specs.Scopes.{Declared, own_text}
use Rattle.es_tree.specs.Tree.{Tree, node, Label, Fields, done, ◌then◌, Field, missing, one, many, statements, Trees, empty, ◌before◌}
use Rattle.es_tree.specs.Walks.{all_in_field, all_in_fields, all_in_trees, all_nodes}
use Rattle.es_tree.specs.Words.{Text}
use Rattle.es_tree.specs.declared.ast_type.AstType.{AstType}
use Rattle.es_tree.specs.declared.ast_type.AstType.TheVariants.{CallExpression, ChainExpression, Identifier, MemberExpression, ParenthesizedExpression, VariableDeclaration, VariableDeclarator}
use Rattle.es_tree.specs.declared.helper.Helper.{Helper}
use Rattle.es_tree.specs.declared.helper.Helper.TheVariants.{ObjectSpread2}
use Rattle.es_tree.specs.declared.table.Sort.{Sort}
use Rattle.es_tree.specs.declared.table.Sort.TheVariants.{Program as s-Program, VariableDeclarator as s-VariableDeclarator}
use Rattle.es_tree.proofs.NodeForm.{NodeForm, node_form}
use Rattle.es_resolution.proofs.AllForms.{All, AllAmong, AllBy, AllIn, all-tree}
use Rattle.es_runs.specs.Alike.{Level, bad_names, the_value}
use Rattle.es_runs.specs.Runs.{is_declared, none_hidden, only}
use Rattle.es_semantic.specs.RolesOf.{reads, role_at}
use Rattle.es_semantic.specs.declared.place.Role.{Role}
use Rattle.es_semantic.specs.declared.place.Role.TheVariants.{Nothing}
use Rattle.es_statement_runs.specs.HelperMembers.{first_is_helpers, is_helpers_object, no_helper_member}
use Rattle.es_statement_runs.specs.Helpers.{is_this_name}
use Rattle.es_statement_runs.specs.Names.{declared_at_top, is_word, names_of_all, own_names, top_in}
use Rattle.es_statement_runs.specs.Places.{Take, all_good, avoids, avoids_field, avoids_fields, avoids_trees, take, takes_of}
use Rattle.es_statement_runs.specs.Programs.{names_no_cell}
use Rattle.es_stackless_runs.specs.Laws.{are_declarators, calls_spread, declares_by, is_declarator, is_plain_node, is_spread_callee, only_spreads, only_spreads_among, only_spreads_by, only_spreads_in}
use Rattle.es_statement_steps.proofs.AvoidedNames.{AtNames, aims_pass, is_aimed, names_avoid, top_fine}
use Rattle.es_statement_steps.proofs.FoundNames.{declared_is}
use Rattle.es_statement_steps.proofs.KeylessPrograms.{IsKeyless, excludes, excludes_none, is_excluding, without_}
use Rattle.es_statement_steps.proofs.ReachedRuns.{ProgramParts, program-parts}
use Rattle.es_statement_steps.proofs.StepMoves.{Fine}
use Rattle.es_helper_calls.specs.HelperCalls.{is_helper as is_this, used_helper}
use Rattle.es_runs.specs.Runs.{program}
use Rattle.es_import_runs.proofs.CalledNames.{Plainly, formed_plainly, plain_form}
use Rattle.es_import_runs.proofs.Callings.{HelperCall, helper_shape, helpers_, text_named}
use Rattle.es_import_runs.proofs.Callings.HelperCall.{helper_called, helper_passed}
use Rattle.es_import_runs.proofs.KeptNames.{NoCells}
use Rattle.es_import_runs.proofs.OnlyCopies.{aims_at, copies, copies_among, copies_by, copies_in, handed_other, is_name_kind, name_other, not_aimed, only_copies}

-- DECLARATIONS have declarators, as form has it

one_declarator : (k : AstType) (l : Label) (fs : Fields) → is_of_sort s-VariableDeclarator k ≡ true → is_declarator (node k l fs) ≡ true
one_declarator VariableDeclarator l fs h = refl
one_declarator _ l fs h = absurd (cc h)

all_declarators : (ts : Trees) → trees_form s-VariableDeclarator s-VariableDeclarator ts ≡ true → are_declarators ts ≡ true
all_declarators empty h = refl
all_declarators (node k l fs before empty) h = and_from (is_declarator (node k l fs)) true (one_declarator k l fs (node_form s-VariableDeclarator k l fs (and_parts (has_form s-VariableDeclarator (node k l fs)) true h).0).sort) refl
all_declarators (node k l fs before (u before ts)) h =
    let d = and_parts (has_form s-VariableDeclarator (node k l fs)) (trees_form s-VariableDeclarator s-VariableDeclarator (u before ts)) h in
    and_from (is_declarator (node k l fs)) (are_declarators (u before ts)) (one_declarator k l fs (node_form s-VariableDeclarator k l fs d.0).sort) (all_declarators (u before ts) d.1)

-- and a name has no fields
abbrev Declares : AstType → Label → Fields → Type 0
Declares k l fs = (declares_by k fs ≡ true) × Plainly k l fs

declares_form : (s : Sort) (k : AstType) (l : Label) (fs : Fields) → NodeForm s k l fs → declares_by k fs ≡ true
declares_form s VariableDeclaration l (many empty then fs) h = refl
declares_form s VariableDeclaration l (many (d before ds) then fs) h = all_declarators (d before ds) (and_parts (trees_form s-VariableDeclarator s-VariableDeclarator (d before ds)) _ h.children).0
declares_form s VariableDeclaration l (statements ts then fs) h = absurd (cc h.children)
declares_form s VariableDeclaration l _ h = refl
declares_form s _ l fs h = refl

formed_declares : (t : Tree) → has_form s-Program t ≡ true → All Declares t
formed_declares t h = all-tree Declares (λ s k l fs f. (declares_form s k l fs f, plain_form s k l fs f)) s-Program t h

-- OTHER OBJECTS

mutual
  object_other : (o : Tree) → only_copies reads o ≡ true → is_helpers_object o ≡ false
  object_other (node Identifier l fs) h = not-true (bytes_eq (first_text l.texts) helpers_) (and_parts (name_other reads Identifier l) true h).0
  object_other (node ParenthesizedExpression l fs) h = first_other (role_at reads ParenthesizedExpression l fs) fs refl h
  object_other (node ChainExpression l fs) h = first_other (role_at reads ChainExpression l fs) fs refl h
  object_other (node VariableDeclarator l fs) h = first_other (role_at reads VariableDeclarator l fs) fs refl h
  object_other (node _ l fs) h = refl

  first_other : (roles : ℕ → Role) (fs : Fields) → roles zero ≡ reads → copies_in false roles fs ≡ true → first_is_helpers fs ≡ false
  first_other roles done e h = refl
  first_other roles (missing then fs) e h = refl
  first_other roles (one t then fs) e h = object_other t (subst (λ (r : Role). only_copies r t ≡ true) e (and_parts (only_copies (roles zero) t) (copies_in false (λ i. roles (suc i)) fs) h).0)
  first_other roles (many ts then fs) e h = refl
  first_other roles (statements ts then fs) e h = refl

member_other : (r : Role) (k : AstType) (l : Label) (fs : Fields) → only_copies r (node k l fs) ≡ true → no_helper_member k l fs ≡ true
member_other r MemberExpression l fs h = ap not (first_other (role_at r MemberExpression l fs) fs refl h)
member_other r _ l fs h = refl

-- A CALL OF THE HELPER

this_helper : (g : Helper) → is_this ObjectSpread2 g ≡ true → g ≡ ObjectSpread2
this_helper ObjectSpread2 e = refl
this_helper _ e = absurd (cc e)

same_text : (x y : Text) → x ≡ y → bytes_eq x y ≡ true
same_text x y e = (bytes_eq-Decides x y).1 e

copies_call : (k : AstType) (l : Label) (fs : Fields) (o : Option Helper) → used_helper k l fs ≡ o → copies o ≡ true → calls_spread k l fs ≡ true
copies_call k l fs None e h = absurd (cc h)
copies_call k l fs (Some g) e h = at (helper_shape k l fs g e)
  where
    at : {k : AstType} {l : Label} {fs : Fields} → HelperCall g k l fs → calls_spread k l fs ≡ true
    at (helper_called {i = i} {m = m} mark a b object name) =
        let text : first_text m.texts ≡ codes "objectSpread2" = sym (text_named (first_text m.texts) g name).0 ∙ ap helper_text (this_helper g h) in
        rw (mark, a, b, object, text) refl
    at (helper_passed p) = absurd (let no : false ≡ true = sym (handed_other _ g p) ∙ h in cc no)

passed_so : (c b : Bool) → (c ≡ true → b ≡ true) → (roles : ℕ → Role) (fs : Fields) → copies_in c roles fs ≡ true → copies_in b roles fs ≡ true
passed_so c b e roles done h = refl
passed_so true true e roles (f then fs) h = h
passed_so false false e roles (f then fs) h = h
passed_so false true e roles (f then fs) h = (and_parts (copies_by (roles zero) f) (copies_in false (λ i. roles (suc i)) fs) h).1
passed_so true false e roles (f then fs) h = absurd (let no : false ≡ true = e refl in cc no)

-- TREES

abbrev bad : Level → Text → Bool
bad = bad_names none_hidden (only helpers_)

not_both : (a b : Bool) → (not a && b) ≡ true → (a ≡ false) × (b ≡ true)
not_both true b h = absurd (cc h)
not_both false b h = (refl, h)

-- what isn't bad isn't declared
other_names : (ds : List Declared) → all_good bad (names_of_all ds) ≡ true → is_among (names_of_all ds) helpers_ ≡ false
other_names [] h = refl
other_names (d ∷ ds) h = let e = not_both (bad Level.a_target d.name) (all_good bad (names_of_all ds)) h in λ i. e.0 i || other_names ds e.1 i

other_declared : (ds : List Declared) → all_good bad (names_of_all ds) ≡ true → not (is_among (names_of_all ds) helpers_) ≡ true
other_declared ds h = ap not (other_names ds h)

-- a name has no fields
unless_name : (k : AstType) (l : Label) (fs : Fields) → Plainly k l fs → {c : Bool} → (is_name_kind k || c) ≡ true → (c ≡ true → only_spreads_in (calls_spread k l fs) fs ≡ true) → only_spreads_in (calls_spread k l fs) fs ≡ true
unless_name Identifier l fs p h f = ap (only_spreads_in false) p
unless_name _ l fs p h f = f h

mutual
  spreads_of : (t : Tree) (n : Take) (r : Role) → All Declares t → NoCells t → avoids bad n t ≡ true → only_copies r t ≡ true → only_spreads t ≡ true
  spreads_of (node k l fs) n r declares cells clear h =
      let names = names_of_all (own_names k fs) in
      let c = and_parts (names_no_cell k l fs) (all_in_fields names_no_cell fs) cells in
      let later = avoids_fields bad (takes_of n k l.texts l.flags) fs in
      let a = and_parts (all_good bad names) later (and_parts _ (all_good bad names && later) clear).1 in
      let d = and_parts (name_other r k l) (is_name_kind k || copies_in (copies (used_helper k l fs)) (role_at r k l fs) fs) h in
      and_from (is_plain_node k l fs) (only_spreads_in (calls_spread k l fs) fs)
      (and_from (names_no_cell k l fs) (no_helper_member k l fs && (not (is_among names helpers_) && declares_by k fs)) c.0 (and_from (no_helper_member k l fs) (not (is_among names helpers_) && declares_by k fs) (member_other r k l fs h) (and_from (not (is_among names helpers_)) (declares_by k fs) (other_declared (own_names k fs) a.0) declares.0.0)))
      (unless_name k l fs declares.0.1 d.1 (λ g. fields_of (calls_spread k l fs) fs (takes_of n k l.texts l.flags) (role_at r k l fs) declares.1 c.1 a.1 (passed_so (copies (used_helper k l fs)) (calls_spread k l fs) (copies_call k l fs (used_helper k l fs) refl) (role_at r k l fs) fs g)))

  fields_of : (b : Bool) (fs : Fields) (g : ℕ → Take) (roles : ℕ → Role) → AllIn Declares fs → all_in_fields names_no_cell fs ≡ true → avoids_fields bad g fs ≡ true → copies_in b roles fs ≡ true → only_spreads_in b fs ≡ true
  fields_of b done g roles declares cells clear h = refl
  fields_of true (f then fs) g roles declares cells clear h =
      fields_of false fs (λ i. g (suc i)) (λ i. roles (suc i)) declares.1 (and_parts (all_in_field names_no_cell f) (all_in_fields names_no_cell fs) cells).1 (and_parts (avoids_field bad (g zero) f) (avoids_fields bad (λ i. g (suc i)) fs) clear).1 h
  fields_of false (f then fs) g roles declares cells clear h =
      let c = and_parts (all_in_field names_no_cell f) (all_in_fields names_no_cell fs) cells in
      let a = and_parts (avoids_field bad (g zero) f) (avoids_fields bad (λ i. g (suc i)) fs) clear in
      let d = and_parts (copies_by (roles zero) f) (copies_in false (λ i. roles (suc i)) fs) h in
      and_from (only_spreads_by f) (only_spreads_in false fs) (field_of f (g zero) (roles zero) declares.0 c.0 a.0 d.0) (fields_of false fs (λ i. g (suc i)) (λ i. roles (suc i)) declares.1 c.1 a.1 d.1)

  field_of : (f : Field) (n : Take) (r : Role) → AllBy Declares f → all_in_field names_no_cell f ≡ true → avoids_field bad n f ≡ true → copies_by r f ≡ true → only_spreads_by f ≡ true
  field_of missing n r declares cells clear h = refl
  field_of (one t) n r declares cells clear h = spreads_of t n r declares cells clear h
  field_of (many ts) n r declares cells clear h = list_of ts n r declares cells clear h
  field_of (statements ts) n r declares cells clear h = list_of ts n r declares cells clear h

  list_of : (ts : Trees) (n : Take) (r : Role) → AllAmong Declares ts → all_in_trees names_no_cell ts ≡ true → avoids_trees bad n ts ≡ true → copies_among r ts ≡ true → only_spreads_among ts ≡ true
  list_of empty n r declares cells clear h = refl
  list_of (t before ts) n r declares cells clear h =
      let c = and_parts (all_nodes names_no_cell t) (all_in_trees names_no_cell ts) cells in
      let a = and_parts (avoids bad n t) (avoids_trees bad n ts) clear in
      let d = and_parts (only_copies r t) (copies_among r ts) h in
      and_from (only_spreads t) (only_spreads_among ts) (spreads_of t n r declares.0 c.0 a.0 d.0) (list_of ts n r declares.1 c.1 a.1 d.1)

-- NO CALL EXCLUDES KEYS in such a tree

other_name : (o : Tree) → is_helpers_object o ≡ false → is_this_name helpers_ o ≡ false
other_name (node Identifier l fs) h = h
other_name (node _ l fs) h = refl

other_callee : (f : Tree) → only_spreads f ≡ true → is_excluding f ≡ false
other_callee (node MemberExpression l (one o then (one x then fs))) h =
    let d = and_parts (is_plain_node MemberExpression l (one o then (one x then fs))) (only_spreads_in false (one o then (one x then fs))) h in
    let c = and_parts (not (is_helpers_object o)) (not (is_among [] helpers_) && true) d.0 in
    ap (λ (b : Bool). b && is_word without_ (own_text x)) (other_name o (not-true (is_helpers_object o) c.0))
other_callee (node MemberExpression l _) h = refl
other_callee (node Identifier l fs) h = refl
other_callee (node _ l fs) h = refl

spread_callee : (f : Tree) → is_spread_callee f ≡ true → is_excluding f ≡ false
spread_callee (node MemberExpression j (one (node Identifier i gs) then (one (node Identifier m hs) then done))) h =
    let d = and_parts (not (flag_at 0 j.flags) && not (flag_at 1 j.flags)) (bytes_eq (first_text i.texts) helpers_ && bytes_eq (first_text m.texts) (codes "objectSpread2")) h in
    let e = (bytes_eq-Decides (first_text m.texts) (codes "objectSpread2")).0 (and_parts (bytes_eq (first_text i.texts) helpers_) (bytes_eq (first_text m.texts) (codes "objectSpread2")) d.1).1 in
    ap (λ (x : Text). bytes_eq (first_text i.texts) helpers_ && is_word without_ x) e ∙ and_right (bytes_eq (first_text i.texts) helpers_) false refl
spread_callee _ h = absurd (cc h)

own_keyless : (k : AstType) (l : Label) (fs : Fields) (b : Bool) → calls_spread k l fs ≡ b → only_spreads_in b fs ≡ true → excludes k fs ≡ false
own_keyless CallExpression l (one f then fs) true e h = spread_callee f (and_parts (not (flag_at 0 l.flags)) (is_spread_callee f) e).1
own_keyless CallExpression l (one f then fs) false e h = other_callee f (and_parts (only_spreads f) (only_spreads_in false fs) h).0
own_keyless CallExpression l _ b e h = refl
own_keyless _ l fs b e h = refl

abbrev TailKeyless : Fields → Type 0
TailKeyless done = Unit {0}
TailKeyless (f then fs) = all_in_fields excludes_none fs ≡ true

call_keyless : (k : AstType) (l : Label) (fs : Fields) → calls_spread k l fs ≡ true → AllIn Plainly fs → TailKeyless fs → all_in_fields excludes_none fs ≡ true
call_keyless CallExpression l (one (node MemberExpression j (one (node Identifier i gs) then (one (node Identifier m hs) then done))) then fs) e plain rest =
    let a : all_in_fields excludes_none gs ≡ true = ap (all_in_fields excludes_none) plain.0.1.0.0 in
    let b : all_in_fields excludes_none hs ≡ true = ap (all_in_fields excludes_none) plain.0.1.1.0.0 in
    rw (a, b, rest) refl
call_keyless CallExpression l (one f then fs) e plain rest = let d = and_parts (not (flag_at 0 l.flags)) (is_spread_callee f) e in absurd (cc (d.1))
call_keyless _ l fs e plain rest = absurd (cc e)

abbrev Kept : Bool → Fields → Type 0
Kept true fs = TailKeyless fs
Kept false fs = all_in_fields excludes_none fs ≡ true

here_keyless : (k : AstType) (l : Label) (fs : Fields) (b : Bool) → calls_spread k l fs ≡ b → AllIn Plainly fs → Kept b fs → all_in_fields excludes_none fs ≡ true
here_keyless k l fs true e plain h = call_keyless k l fs e plain h
here_keyless k l fs false e plain h = h

mutual
  keyless_of : (t : Tree) → All Plainly t → only_spreads t ≡ true → IsKeyless t
  keyless_of (node k l fs) plain h =
      let d = and_parts (is_plain_node k l fs) (only_spreads_in (calls_spread k l fs) fs) h in
      and_from (excludes_none k l fs) (all_in_fields excludes_none fs) (ap not (own_keyless k l fs (calls_spread k l fs) refl d.1)) (here_keyless k l fs (calls_spread k l fs) refl plain.1 (keyless_in (calls_spread k l fs) fs plain.1 d.1))

  keyless_in : (b : Bool) (fs : Fields) → AllIn Plainly fs → only_spreads_in b fs ≡ true → Kept b fs
  keyless_in true done plain h = tt
  keyless_in false done plain h = refl
  keyless_in true (f then fs) plain h = keyless_in false fs plain.1 h
  keyless_in false (f then fs) plain h = let d = and_parts (only_spreads_by f) (only_spreads_in false fs) h in and_from (all_in_field excludes_none f) (all_in_fields excludes_none fs) (keyless_by f plain.0 d.0) (keyless_in false fs plain.1 d.1)

  keyless_by : (f : Field) → AllBy Plainly f → only_spreads_by f ≡ true → all_in_field excludes_none f ≡ true
  keyless_by missing plain h = refl
  keyless_by (one t) plain h = keyless_of t plain h
  keyless_by (many ts) plain h = keyless_among ts plain h
  keyless_by (statements ts) plain h = keyless_among ts plain h

  keyless_among : (ts : Trees) → AllAmong Plainly ts → only_spreads_among ts ≡ true → all_in_trees excludes_none ts ≡ true
  keyless_among empty plain h = refl
  keyless_among (t before ts) plain h = let d = and_parts (only_spreads t) (only_spreads_among ts) h in and_from (all_nodes excludes_none t) (all_in_trees excludes_none ts) (keyless_of t plain.0 d.0) (keyless_among ts plain.1 d.1)

-- SO IT RUNS THE SAME

good : (r : Role) (n : Level) (i : Label) → (r ≡ Nothing → n ≡ Level.no_evaluation) → (n ≡ Level.a_target → is_aimed r ≡ true) → not_aimed r i → bad n (first_text i.texts) ≡ false
good r Level.no_evaluation i e d q = refl
good r Level.a_target i e d q = q (d refl)
good r _ i e d q = refl

clear_program : (l : Label) (ds body : Trees) → AtNames not_aimed reads (program l ds body) → Fine (program l ds body) → avoids bad (take the_value true) (program l ds body) ≡ true
clear_program l ds body names fine = names_avoid is_aimed aims_pass bad not_aimed good reads (take the_value true) (program l ds body) names (record { told = λ e. absurd (cc e); target = λ e a. absurd (cc e); pattern = λ e. absurd (cc e) }) fine

pub record Spreads (t : Tree) : Type 0 where
  pub only : only_spreads t ≡ true
  pub keyless : IsKeyless t
  pub unbound : is_declared (declared_at_top t) helpers_ ≡ false

pub spreads_so : (t : Tree) → has_form s-Program t ≡ true → Fine t → only_copies reads t ≡ true → NoCells t → Spreads t
spreads_so t form fine only_here cells = record { only = only_so; keyless = keyless_of t plain only_so; unbound = subst (λ (z : Tree). is_declared (declared_at_top z) helpers_ ≡ false) (sym a.same) top_so }
  where
    a : ProgramParts t
    a = program-parts t form

    plain : All Plainly t
    plain = formed_plainly t form

    names : AtNames not_aimed reads t
    names = aims_at t reads plain only_here

    clear : avoids bad (take the_value true) t ≡ true
    clear = subst (λ (z : Tree). avoids bad (take the_value true) z ≡ true) (sym a.same) (clear_program a.label a.directives a.body (subst (λ (z : Tree). AtNames not_aimed reads z) a.same names) (subst Fine a.same fine))

    only_so : only_spreads t ≡ true
    only_so = spreads_of t (take the_value true) reads (formed_declares t form) cells clear only_here

    top_so : is_declared (top_in a.body) helpers_ ≡ false
    top_so = at (is_declared (top_in a.body) helpers_) refl
      where
        at : (c : Bool) → is_declared (top_in a.body) helpers_ ≡ c → c ≡ false
        at false d = refl
        at true d =
            let no : bad Level.a_target helpers_ ≡ false = top_fine is_aimed aims_pass bad not_aimed good a.label (many a.directives then (statements a.body then done)) (subst Fine a.same fine) (subst (λ (z : Tree). AtNames not_aimed reads z) a.same names) helpers_ (sym (declared_is (top_in a.body) helpers_) ∙ d) in
            absurd (cc no)
