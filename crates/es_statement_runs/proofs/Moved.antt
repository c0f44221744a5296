-- Trees that are the same but for rows at places and for temporaries that are put into lists: scopes declare what they did, the top declares
-- the temporaries more, and the trees are those of `Beside`.
use Rattle.std.proofs.Common.{◌≡◌, refl, sym, List, [], ◌∷◌, ◌++◌, ap, ◌∙◌}
use Rattle.std.specs.Prelude.{ℕ, zero, suc, Bool, true, false, not, ◌&&◌, Some, codes}
use Rattle.es_tree.specs.BoundNames.{bound_identifiers, bound_in_field, bound_in_fields, bound_in_first, bound_in_second, bound_in_trees}
use Rattle.es_tree.specs.Names.{first_text}
use Rattle.es_tree.specs.Scopes.{Declared, own_text}
use Rattle.es_tree.specs.Tree.{Tree, node, Label, Fields, done, ◌then◌, Field, missing, one, many, statements, Trees, empty, ◌before◌, kind_of}
use Rattle.es_tree.specs.Words.{Text}
use Rattle.es_tree.specs.declared.ast_type.AstType.{AstType}
use Rattle.es_tree.specs.declared.ast_type.AstType.TheVariants.{ArrayPattern, AssignmentPattern, BlockStatement, CatchClause, ExportNamedDeclaration, ForInStatement, ForOfStatement, ForStatement, Identifier, ImportDeclaration, ImportDefaultSpecifier, ImportNamespaceSpecifier, ImportSpecifier, LabeledStatement, ObjectPattern, PatternProperty, Program, RestElement, SwitchCase, SwitchStatement, VariableDeclaration}
use Rattle.es_runs.specs.Alike.{Level, is_bad, the_value}
use Rattle.es_statement_runs.specs.BareVars.{BareDeclarators, Beside, BesideField, BesideFields, BesideList, BesideTrees, GrownDeclarators, names_around}
use Rattle.es_statement_runs.specs.BareVars.BareDeclarators.{none_bare, one_bare}
use Rattle.es_statement_runs.specs.BareVars.BareVar.{bare_var}
use Rattle.es_statement_runs.specs.BareVars.Beside.{at_place, in_node, in_block, in_case}
use Rattle.es_statement_runs.specs.BareVars.BesideFields.{beside_done, beside_then}
use Rattle.es_statement_runs.specs.BareVars.BesideField.{beside_missing, beside_one, beside_many, beside_statements}
use Rattle.es_statement_runs.specs.BareVars.BesideTrees.{beside_empty, beside_before}
use Rattle.es_statement_runs.specs.BareVars.BesideList.{list_ends, both_have, first_has, second_has}
use Rattle.es_statement_runs.specs.BareVars.GrownDeclarators.{as_named, none_grown, one_grown}
use Rattle.es_statement_runs.specs.Kinds.{label_in}
use Rattle.es_statement_runs.specs.Laws.{among_names}
use Rattle.es_statement_runs.specs.Names.{binding_word, cases_names, cases_use, declarations_names, declarator_bound, declarators_names, declared_as, first_bound, import_names, is_word, last_name, lexical_in, lexical_names, names_of_all, names_where, own_names, own_use, top_in, top_names, using_here, using_in, var_names, var_names_all, var_names_at, var_names_in}
use Rattle.es_statement_runs.specs.Places.{Take, all_good, avoids, avoids_field, avoids_fields, avoids_trees, take, takes_of, value_taken}
use Rattle.es_statement_runs.proofs.BareVars.{MoreDeclared, using_as}
use Rattle.es_statement_runs.proofs.BareVars.MoreDeclared.{as_before, declared_more, none_declared}
use Rattle.es_statement_runs.proofs.Everywhere.{both_left, both_right, not_so}

-- THE TREES

-- Where rows may act: here, only below, or nowhere from here on. None acts in a directive, at a label or in what imports bind, nor in the place of a
-- case or of a declarator.
pub data Room : Type 0 where
  open_room inner_room closed_room : Room

abbrev pub opened_room : Room → Room
opened_room closed_room = closed_room
opened_room _ = open_room

abbrev pub narrowed_room : Room → Room
narrowed_room closed_room = closed_room
narrowed_room _ = inner_room

abbrev pub room_in : Room → AstType → ℕ → Room
room_in r Program zero = closed_room
room_in r LabeledStatement zero = closed_room
room_in r ImportDeclaration i = closed_room
room_in r ImportSpecifier i = closed_room
room_in r ImportDefaultSpecifier i = closed_room
room_in r ImportNamespaceSpecifier i = closed_room
room_in r SwitchStatement (suc i) = narrowed_room r
room_in r VariableDeclaration i = narrowed_room r
room_in r _ i = opened_room r

mutual
  pub data Moved (fresh : Text → Bool) (R : List Declared → Take → Tree → Tree → Type 0) : Room → List Declared → Take → Tree → Tree → Type 0 where
    moved_place : {r : Room} {ds : List Declared} {t : Take} {a b : Tree} → r ≡ open_room → R ds t a b → Moved fresh R r ds t a b
    moved_node : {r : Room} {ds : List Declared} {t : Take} {k : AstType} {l m : Label} {fs gs : Fields} → m.texts ≡ l.texts → m.flags ≡ l.flags →
        MovedFields fresh R (room_in r k) (names_around k (own_names k fs) ds) (takes_of t k l.texts l.flags) fs gs → Moved fresh R r ds t (node k l fs) (node k m gs)
    moved_block : {r : Room} {ds : List Declared} {t : Take} {l m : Label} {ts us : Trees} → m.texts ≡ l.texts → MovedList fresh R (opened_room r) (lexical_in ts ++ ds) false ts us →
        Moved fresh R r ds t (node BlockStatement l (statements ts then done)) (node BlockStatement m (statements us then done))
    moved_case : {r : Room} {ds : List Declared} {t : Take} {l m : Label} {f g : Field} {ts us : Trees} → m.texts ≡ l.texts → MovedField fresh R (opened_room r) ds value_taken f g → MovedList fresh R (opened_room r) ds false ts us →
        Moved fresh R r ds t (node SwitchCase l (f then statements ts then done)) (node SwitchCase m (g then statements us then done))

  pub data MovedFields (fresh : Text → Bool) (R : List Declared → Take → Tree → Tree → Type 0) : (ℕ → Room) → (ℕ → List Declared) → (ℕ → Take) → Fields → Fields → Type 0 where
    moved_done : {r : ℕ → Room} {d : ℕ → List Declared} {c : ℕ → Take} → MovedFields fresh R r d c done done
    moved_then : {r : ℕ → Room} {d : ℕ → List Declared} {c : ℕ → Take} {f g : Field} {fs gs : Fields} → MovedField fresh R (r zero) (d zero) (c zero) f g →
        MovedFields fresh R (λ i. r (suc i)) (λ i. d (suc i)) (λ i. c (suc i)) fs gs → MovedFields fresh R r d c (f then fs) (g then gs)

  pub data MovedField (fresh : Text → Bool) (R : List Declared → Take → Tree → Tree → Type 0) : Room → List Declared → Take → Field → Field → Type 0 where
    moved_missing : {r : Room} {ds : List Declared} {t : Take} → MovedField fresh R r ds t missing missing
    moved_one : {r : Room} {ds : List Declared} {t : Take} {a b : Tree} → Moved fresh R r ds t a b → MovedField fresh R r ds t (one a) (one b)
    moved_many : {r : Room} {ds : List Declared} {t : Take} {ts us : Trees} → MovedTrees fresh R r ds t ts us → MovedField fresh R r ds t (many ts) (many us)
    moved_statements : {r : Room} {ds : List Declared} {t : Take} {ts us : Trees} → MovedTrees fresh R r ds t ts us → MovedField fresh R r ds t (statements ts) (statements us)

  pub data MovedTrees (fresh : Text → Bool) (R : List Declared → Take → Tree → Tree → Type 0) : Room → List Declared → Take → Trees → Trees → Type 0 where
    moved_empty : {r : Room} {ds : List Declared} {t : Take} → MovedTrees fresh R r ds t empty empty
    moved_before : {r : Room} {ds : List Declared} {t : Take} {a b : Tree} {ts us : Trees} → Moved fresh R r ds t a b → MovedTrees fresh R r ds t ts us → MovedTrees fresh R r ds t (a before ts) (b before us)

  pub data MovedList (fresh : Text → Bool) (R : List Declared → Take → Tree → Tree → Type 0) : Room → List Declared → Bool → Trees → Trees → Type 0 where
    moved_end : {r : Room} {ds : List Declared} {more : Bool} → MovedList fresh R r ds more empty empty
    moved_statement : {r : Room} {ds : List Declared} {more : Bool} {a b : Tree} {ts us : Trees} → Moved fresh R r ds (take the_value more) a b → MovedList fresh R r ds more ts us → MovedList fresh R r ds more (a before ts) (b before us)
    moved_new : {r : Room} {ds : List Declared} {more : Bool} {m : Label} {es ts us : Trees} → m.texts ≡ Some (codes "var") ∷ [] → GrownDeclarators fresh empty es → MovedList fresh R r ds more ts us →
        MovedList fresh R r ds more ts (node VariableDeclaration m (many es then done) before us)
    moved_grown : {r : Room} {ds : List Declared} {more : Bool} {l m : Label} {cs es ts us : Trees} → l.texts ≡ Some (codes "var") ∷ [] → m.texts ≡ Some (codes "var") ∷ [] → GrownDeclarators fresh cs es → MovedList fresh R r ds more ts us →
        MovedList fresh R r ds more (node VariableDeclaration l (many cs then done) before ts) (node VariableDeclaration m (many es then done) before us)

-- WHAT A ROW KEEPS of the names around: its two sides are of kinds that declare nothing by themselves, and hoist the same but for the temporaries

abbrev pub is_mute : AstType → Bool
is_mute Identifier = false
is_mute ObjectPattern = false
is_mute PatternProperty = false
is_mute ArrayPattern = false
is_mute AssignmentPattern = false
is_mute RestElement = false
is_mute VariableDeclaration = false
is_mute ImportDeclaration = false
is_mute ExportNamedDeclaration = false
is_mute _ = true

pub record BothMute (xs : List Text) (a b : Tree) : Type 0 where
  pub first : is_mute (kind_of a) ≡ true
  pub second : is_mute (kind_of b) ≡ true
  pub vars : MoreDeclared (codes "var") xs (var_names a) (var_names b)

mute_bound : (k : AstType) (l : Label) (fs : Fields) → is_mute k ≡ true → bound_identifiers (node k l fs) ≡ []
mute_bound Identifier l fs h = absurd (cc h)
mute_bound ObjectPattern l fs h = absurd (cc h)
mute_bound PatternProperty l fs h = absurd (cc h)
mute_bound ArrayPattern l fs h = absurd (cc h)
mute_bound AssignmentPattern l fs h = absurd (cc h)
mute_bound RestElement l fs h = absurd (cc h)
mute_bound _ l fs h = refl

mute_lexical : (k : AstType) (l : Label) (fs : Fields) → is_mute k ≡ true → lexical_names (node k l fs) ≡ []
mute_lexical VariableDeclaration l fs h = absurd (cc h)
mute_lexical _ l fs h = refl

mute_using : (k : AstType) (l : Label) (fs : Fields) → is_mute k ≡ true → using_here (node k l fs) ≡ false
mute_using VariableDeclaration l fs h = absurd (cc h)
mute_using _ l fs h = refl

mute_top : (k : AstType) (l : Label) (fs : Fields) → is_mute k ≡ true → top_names (node k l fs) ≡ var_names (node k l fs)
mute_top VariableDeclaration l fs h = absurd (cc h)
mute_top ImportDeclaration l fs h = absurd (cc h)
mute_top ExportNamedDeclaration l fs h = absurd (cc h)
mute_top _ l fs h = refl

mute_exported : (k : AstType) (l m : Label) (fs gs : Fields) → is_mute k ≡ true → top_names (node ExportNamedDeclaration m (one (node k l fs) then gs)) ≡ var_names_in (one (node k l fs) then gs)
mute_exported VariableDeclaration l m fs gs h = absurd (cc h)
mute_exported _ l m fs gs h = refl

inner_room_no : (r : Room) → narrowed_room r ≡ open_room → ⊥
inner_room_no open_room e = absurd (cc e)
inner_room_no inner_room e = absurd (cc e)
inner_room_no closed_room e = absurd (cc e)

no_room : {r : Room} → r ≡ closed_room → r ≡ open_room → ⊥
no_room e i = let k : closed_room ≡ open_room = cc in absurd (cc k)

as_append : (word : Text) (a b : List Tree) → declared_as word (a ++ b) ≡ declared_as word a ++ declared_as word b
as_append word [] b = refl
as_append word (x ∷ a) b = ap (λ (ds : List Declared). record { name = own_text x; kind = word } ∷ ds) (as_append word a b)

-- what a pattern of each kind binds, by what its fields do
bound_kind : (word : Text) (k : AstType) (l m : Label) (fs gs : Fields) → m.texts ≡ l.texts → declared_as word (bound_in_first gs) ≡ declared_as word (bound_in_first fs) → declared_as word (bound_in_second gs) ≡ declared_as word (bound_in_second fs) →
    declared_as word (bound_in_fields gs) ≡ declared_as word (bound_in_fields fs) → declared_as word (bound_identifiers (node k m gs)) ≡ declared_as word (bound_identifiers (node k l fs))
bound_kind word Identifier l m fs gs e a b c = rw e refl
bound_kind word ObjectPattern l m fs gs e a b c = a
bound_kind word PatternProperty l m fs gs e a b c = b
bound_kind word ArrayPattern l m fs gs e a b c = c
bound_kind word AssignmentPattern l m fs gs e a b c = a
bound_kind word RestElement l m fs gs e a b c = a
bound_kind word _ l m fs gs e a b c = refl

mute_both : (word : Text) (a b : Tree) → is_mute (kind_of a) ≡ true → is_mute (kind_of b) ≡ true → declared_as word (bound_identifiers b) ≡ declared_as word (bound_identifiers a)
mute_both word (node k l fs) (node j m gs) e i = rw (mute_bound k l fs e, mute_bound j m gs i) refl

module _ (fresh : Text → Bool) (R : List Declared → Take → Tree → Tree → Type 0) where
  -- nothing may be moved
  mutual
    pub moved_self : {r : Room} {ds : List Declared} {t : Take} (a : Tree) → Moved fresh R r ds t a a
    moved_self (node k l fs) = moved_node refl refl (fields_self fs)

    pub fields_self : {r : ℕ → Room} {d : ℕ → List Declared} {c : ℕ → Take} (fs : Fields) → MovedFields fresh R r d c fs fs
    fields_self done = moved_done
    fields_self (f then fs) = moved_then (field_self f) (fields_self fs)

    pub field_self : {r : Room} {ds : List Declared} {t : Take} (f : Field) → MovedField fresh R r ds t f f
    field_self missing = moved_missing
    field_self (one a) = moved_one (moved_self a)
    field_self (many ts) = moved_many (trees_self ts)
    field_self (statements ts) = moved_statements (trees_self ts)

    pub trees_self : {r : Room} {ds : List Declared} {t : Take} (ts : Trees) → MovedTrees fresh R r ds t ts ts
    trees_self empty = moved_empty
    trees_self (a before ts) = moved_before (moved_self a) (trees_self ts)

  pub list_self : {r : Room} {ds : List Declared} {more : Bool} (ts : Trees) → MovedList fresh R r ds more ts ts
  list_self empty = moved_end
  list_self (a before ts) = moved_statement (moved_self a) (list_self ts)

module _ (xs : List Text) (R : List Declared → Take → Tree → Tree → Type 0) (mute : (ds : List Declared) (t : Take) (a b : Tree) → R ds t a b → BothMute xs a b) where
  abbrev Fresh : Text → Bool
  Fresh = among_names xs

  texts_kept : {r : Room} {ds : List Declared} {t : Take} {a b : Tree} → r ≡ closed_room → Moved Fresh R r ds t a b → own_text b ≡ own_text a
  texts_kept shut (moved_place e h) = absurd (no_room shut e)
  texts_kept shut (moved_node e i h) = rw e refl
  texts_kept shut (moved_block e h) = rw e refl
  texts_kept shut (moved_case e g h) = rw e refl

  -- WHAT PATTERNS BIND

  mutual
    bound_kept : (word : Text) {r : Room} {ds : List Declared} {t : Take} {a b : Tree} → Moved Fresh R r ds t a b → declared_as word (bound_identifiers b) ≡ declared_as word (bound_identifiers a)
    bound_kept word (moved_place {a = a} {b = b} e h) = mute_both word a b (mute _ _ _ _ h).first (mute _ _ _ _ h).second
    bound_kept word (moved_node {k = k} {l = l} {m = m} {fs = fs} {gs = gs} e i h) = bound_kind word k l m fs gs e (first_kept word h) (second_kept word h) (fields_kept word h)
    bound_kept word (moved_block e h) = refl
    bound_kept word (moved_case e g h) = refl

    first_kept : (word : Text) {r : ℕ → Room} {d : ℕ → List Declared} {c : ℕ → Take} {fs gs : Fields} → MovedFields Fresh R r d c fs gs → declared_as word (bound_in_first gs) ≡ declared_as word (bound_in_first fs)
    first_kept word moved_done = refl
    first_kept word (moved_then h hs) = field_kept word h

    second_kept : (word : Text) {r : ℕ → Room} {d : ℕ → List Declared} {c : ℕ → Take} {fs gs : Fields} → MovedFields Fresh R r d c fs gs → declared_as word (bound_in_second gs) ≡ declared_as word (bound_in_second fs)
    second_kept word moved_done = refl
    second_kept word (moved_then h hs) = first_kept word hs

    fields_kept : (word : Text) {r : ℕ → Room} {d : ℕ → List Declared} {c : ℕ → Take} {fs gs : Fields} → MovedFields Fresh R r d c fs gs → declared_as word (bound_in_fields gs) ≡ declared_as word (bound_in_fields fs)
    fields_kept word moved_done = refl
    fields_kept word (moved_then {f = f} {g = g} {fs = fs} {gs = gs} h hs) = rw (as_append word (bound_in_field g) (bound_in_fields gs), as_append word (bound_in_field f) (bound_in_fields fs), field_kept word h, fields_kept word hs) refl

    field_kept : (word : Text) {r : Room} {ds : List Declared} {t : Take} {f g : Field} → MovedField Fresh R r ds t f g → declared_as word (bound_in_field g) ≡ declared_as word (bound_in_field f)
    field_kept word moved_missing = refl
    field_kept word (moved_one h) = bound_kept word h
    field_kept word (moved_many h) = trees_kept word h
    field_kept word (moved_statements h) = trees_kept word h

    trees_kept : (word : Text) {r : Room} {ds : List Declared} {t : Take} {ts us : Trees} → MovedTrees Fresh R r ds t ts us → declared_as word (bound_in_trees us) ≡ declared_as word (bound_in_trees ts)
    trees_kept word moved_empty = refl
    trees_kept word (moved_before {a = a} {b = b} {ts = ts} {us = us} h hs) = rw (as_append word (bound_identifiers b) (bound_in_trees us), as_append word (bound_identifiers a) (bound_in_trees ts), bound_kept word h, trees_kept word hs) refl

  -- WHAT SCOPES DECLARE

  first_bound_kept : (word : Text) {r : Room} {ds : List Declared} {t : Take} {f g : Field} → MovedField Fresh R r ds t f g → (fs gs : Fields) → declared_as word (first_bound (g then gs)) ≡ declared_as word (first_bound (f then fs))
  first_bound_kept word moved_missing fs gs = refl
  first_bound_kept word (moved_one h) fs gs = bound_kept word h
  first_bound_kept word (moved_many h) fs gs = refl
  first_bound_kept word (moved_statements h) fs gs = refl

  first_of_kept : (word : Text) {r : ℕ → Room} {d : ℕ → List Declared} {c : ℕ → Take} {fs gs : Fields} → MovedFields Fresh R r d c fs gs → declared_as word (first_bound gs) ≡ declared_as word (first_bound fs)
  first_of_kept word moved_done = refl
  first_of_kept word (moved_then {fs = fs} {gs = gs} h hs) = first_bound_kept word h fs gs

  declarator_kept : (word : Text) {r : Room} {ds : List Declared} {t : Take} {a b : Tree} → (r ≡ open_room → ⊥) → Moved Fresh R r ds t a b → declared_as word (declarator_bound b) ≡ declared_as word (declarator_bound a)
  declarator_kept word shut (moved_place e h) = absurd (shut e)
  declarator_kept word shut (moved_node e i h) = first_of_kept word h
  declarator_kept word shut (moved_block e h) = refl
  declarator_kept word shut (moved_case {ts = ts} {us = us} e g h) = first_bound_kept word g (statements ts then done) (statements us then done)

  declarators_kept : (word : Text) {r : Room} {ds : List Declared} {t : Take} {ts us : Trees} → (r ≡ open_room → ⊥) → MovedTrees Fresh R r ds t ts us → declarators_names word us ≡ declarators_names word ts
  declarators_kept word shut moved_empty = refl
  declarators_kept word shut (moved_before h hs) = rw (declarator_kept word shut h, declarators_kept word shut hs) refl

  declaration_kept : (word : Text) (r : Room) {d : ℕ → List Declared} {c : ℕ → Take} {fs gs : Fields} → MovedFields Fresh R (room_in r VariableDeclaration) d c fs gs → declarations_names word gs ≡ declarations_names word fs
  declaration_kept word r moved_done = refl
  declaration_kept word r (moved_then moved_missing hs) = refl
  declaration_kept word r (moved_then (moved_one h) hs) = refl
  declaration_kept word r (moved_then (moved_many h) hs) = declarators_kept word (inner_room_no r) h
  declaration_kept word r (moved_then (moved_statements h) hs) = refl

  where_kept : (r : Room) {d : ℕ → List Declared} {c : ℕ → Take} {fs gs : Fields} → MovedFields Fresh R (room_in r VariableDeclaration) d c fs gs → (b : Bool) (word : Text) → names_where b word gs ≡ names_where b word fs
  where_kept r h true word = declaration_kept (binding_word word) r h
  where_kept r h false word = refl

  lexical_kind : (r : Room) (k : AstType) (l m : Label) {d : ℕ → List Declared} {c : ℕ → Take} {fs gs : Fields} → m.texts ≡ l.texts → MovedFields Fresh R (room_in r k) d c fs gs → lexical_names (node k m gs) ≡ lexical_names (node k l fs)
  lexical_kind r VariableDeclaration l m e h = rw e (where_kept r h (not (is_word (codes "var") (first_text l.texts))) (first_text l.texts))
  lexical_kind r _ l m e h = refl

  lexical_place : (a b : Tree) → BothMute xs a b → lexical_names b ≡ lexical_names a
  lexical_place (node k l fs) (node j m gs) h = rw (mute_lexical k l fs h.first, mute_lexical j m gs h.second) refl

  using_place : (a b : Tree) → BothMute xs a b → using_here b ≡ using_here a
  using_place (node k l fs) (node j m gs) h = rw (mute_using k l fs h.first, mute_using j m gs h.second) refl

  lexical_kept : {r : Room} {ds : List Declared} {t : Take} {a b : Tree} → Moved Fresh R r ds t a b → lexical_names b ≡ lexical_names a
  lexical_kept (moved_place {a = a} {b = b} e h) = lexical_place a b (mute _ _ _ _ h)
  lexical_kept (moved_node {r = r} {k = k} {l = l} {m = m} e i h) = lexical_kind r k l m e h
  lexical_kept (moved_block e h) = refl
  lexical_kept (moved_case e g h) = refl

  using_kept : {r : Room} {ds : List Declared} {t : Take} {a b : Tree} → Moved Fresh R r ds t a b → using_here b ≡ using_here a
  using_kept (moved_place {a = a} {b = b} e h) = using_place a b (mute _ _ _ _ h)
  using_kept (moved_node {k = k} {l = l} {m = m} {fs = fs} {gs = gs} e i h) = using_as k l m fs gs e
  using_kept (moved_block e h) = refl
  using_kept (moved_case e g h) = refl

  lexical_trees : {r : Room} {ds : List Declared} {t : Take} {ts us : Trees} → MovedTrees Fresh R r ds t ts us → lexical_in us ≡ lexical_in ts
  lexical_trees moved_empty = refl
  lexical_trees (moved_before h hs) = rw (lexical_kept h, lexical_trees hs) refl

  using_trees : {r : Room} {ds : List Declared} {t : Take} {ts us : Trees} → MovedTrees Fresh R r ds t ts us → using_in us ≡ using_in ts
  using_trees moved_empty = refl
  using_trees (moved_before h hs) = rw (using_kept h, using_trees hs) refl

  lexical_list : {r : Room} {ds : List Declared} {more : Bool} {ts us : Trees} → MovedList Fresh R r ds more ts us → lexical_in us ≡ lexical_in ts
  lexical_list moved_end = refl
  lexical_list (moved_statement h hs) = rw (lexical_kept h, lexical_list hs) refl
  lexical_list (moved_new e g hs) = rw e (lexical_list hs)
  lexical_list (moved_grown e i g hs) = rw (e, i) (lexical_list hs)

  pub using_list : {r : Room} {ds : List Declared} {more : Bool} {ts us : Trees} → MovedList Fresh R r ds more ts us → using_in us ≡ using_in ts
  using_list moved_end = refl
  using_list (moved_statement h hs) = rw (using_kept h, using_list hs) refl
  using_list (moved_new e g hs) = rw e (using_list hs)
  using_list (moved_grown e i g hs) = rw (e, i) (using_list hs)

  -- cases: their names and their `using`
  record SameCases (cs es : Trees) : Type 0 where
    names : cases_names es ≡ cases_names cs
    uses : cases_use es ≡ cases_use cs

  case_kept : {r : ℕ → Room} {d : ℕ → List Declared} {c : ℕ → Take} {k : AstType} {l m : Label} {fs gs : Fields} {cs es : Trees} → MovedFields Fresh R r d c fs gs → SameCases cs es → SameCases (node k l fs before cs) (node k m gs before es)
  case_kept moved_done r = record { names = r.names; uses = r.uses }
  case_kept (moved_then h moved_done) r = record { names = r.names; uses = r.uses }
  case_kept (moved_then h (moved_then moved_missing hs)) r = record { names = r.names; uses = r.uses }
  case_kept (moved_then h (moved_then (moved_one g) hs)) r = record { names = r.names; uses = r.uses }
  case_kept (moved_then h (moved_then (moved_many g) hs)) r = record { names = r.names; uses = r.uses }
  case_kept (moved_then h (moved_then (moved_statements g) hs)) r = record { names = rw (lexical_trees g, r.names) refl; uses = rw (using_trees g, r.uses) refl }

  cases_kept : {r : Room} {ds : List Declared} {t : Take} {cs es : Trees} → (r ≡ open_room → ⊥) → MovedTrees Fresh R r ds t cs es → SameCases cs es
  cases_kept shut moved_empty = record { names = refl; uses = refl }
  cases_kept shut (moved_before (moved_place e h) hs) = absurd (shut e)
  cases_kept shut (moved_before (moved_node e i h) hs) = case_kept h (cases_kept shut hs)
  cases_kept shut (moved_before (moved_block e h) hs) = let r = cases_kept shut hs in record { names = r.names; uses = r.uses }
  cases_kept shut (moved_before (moved_case e g h) hs) = let r = cases_kept shut hs in record { names = rw (lexical_list h, r.names) refl; uses = rw (using_list h, r.uses) refl }

  last_one : {r : Room} {ds : List Declared} {t : Take} {a b : Tree} → r ≡ closed_room → Moved Fresh R r ds t a b → last_name (one b then done) ≡ last_name (one a then done)
  last_one shut (moved_place e h) = absurd (no_room shut e)
  last_one shut (moved_node e i h) = rw e refl
  last_one shut (moved_block e h) = rw e refl
  last_one shut (moved_case e g h) = rw e refl

  last_past : (a : Tree) (f : Field) (fs : Fields) → last_name (one a then (f then fs)) ≡ last_name (f then fs)
  last_past (node k l hs) f fs = refl

  last_then : {q : Room} {ds : List Declared} {t : Take} {a b : Tree} {r : ℕ → Room} {d : ℕ → List Declared} {c : ℕ → Take} {fs gs : Fields} → q ≡ closed_room → Moved Fresh R q ds t a b → MovedFields Fresh R r d c fs gs → last_name gs ≡ last_name fs → last_name (one b then gs) ≡ last_name (one a then fs)
  last_then shut h moved_done e = last_one shut h
  last_then {a = a} {b = b} shut h (moved_then {f = f} {g = g} {fs = fs} {gs = gs} k ks) e = last_past b g gs ∙ e ∙ sym (last_past a f fs)

  last_kept : {r : ℕ → Room} {d : ℕ → List Declared} {c : ℕ → Take} {fs gs : Fields} → ((i : ℕ) → r i ≡ closed_room) → MovedFields Fresh R r d c fs gs → last_name gs ≡ last_name fs
  last_kept shut moved_done = refl
  last_kept shut (moved_then moved_missing hs) = last_kept (λ i. shut (suc i)) hs
  last_kept shut (moved_then (moved_many h) hs) = last_kept (λ i. shut (suc i)) hs
  last_kept shut (moved_then (moved_statements h) hs) = last_kept (λ i. shut (suc i)) hs
  last_kept shut (moved_then (moved_one h) hs) = last_then (shut zero) h hs (last_kept (λ i. shut (suc i)) hs)

  own_kept : (r : Room) (k : AstType) {d : ℕ → List Declared} {c : ℕ → Take} {fs gs : Fields} → MovedFields Fresh R (room_in r k) d c fs gs → own_names k gs ≡ own_names k fs
  own_kept r BlockStatement (moved_then (moved_statements h) hs) = lexical_trees h
  own_kept r BlockStatement _ = refl
  own_kept r ForStatement (moved_then (moved_one h) hs) = lexical_kept h
  own_kept r ForStatement _ = refl
  own_kept r ForInStatement (moved_then (moved_one h) hs) = lexical_kept h
  own_kept r ForInStatement _ = refl
  own_kept r ForOfStatement (moved_then (moved_one h) hs) = lexical_kept h
  own_kept r ForOfStatement _ = refl
  own_kept r SwitchStatement (moved_then f (moved_then (moved_many h) hs)) = (cases_kept (inner_room_no r) h).names
  own_kept r SwitchStatement _ = refl
  own_kept r CatchClause h = first_of_kept (codes "let") h
  own_kept r ImportSpecifier h = last_kept (λ i. refl) h
  own_kept r ImportDefaultSpecifier h = last_kept (λ i. refl) h
  own_kept r ImportNamespaceSpecifier h = last_kept (λ i. refl) h
  own_kept r _ h = refl

  use_kept : (r : Room) (k : AstType) {d : ℕ → List Declared} {c : ℕ → Take} {fs gs : Fields} → MovedFields Fresh R (room_in r k) d c fs gs → own_use k gs ≡ own_use k fs
  use_kept r Program (moved_then f (moved_then (moved_statements h) hs)) = using_trees h
  use_kept r Program _ = refl
  use_kept r BlockStatement (moved_then (moved_statements h) hs) = using_trees h
  use_kept r BlockStatement _ = refl
  use_kept r ForStatement (moved_then (moved_one h) hs) = using_kept h
  use_kept r ForStatement _ = refl
  use_kept r ForOfStatement (moved_then (moved_one h) hs) = using_kept h
  use_kept r ForOfStatement _ = refl
  use_kept r SwitchStatement (moved_then f (moved_then (moved_many h) hs)) = (cases_kept (inner_room_no r) h).uses
  use_kept r SwitchStatement _ = refl
  use_kept r _ h = refl

  named_label : {r : Room} {ds : List Declared} {t : Take} {a b : Tree} → r ≡ closed_room → Moved Fresh R r ds t a b → (fs gs : Fields) → label_in LabeledStatement (one b then gs) ≡ label_in LabeledStatement (one a then fs)
  named_label shut (moved_place e h) fs gs = absurd (no_room shut e)
  named_label shut (moved_node e i h) fs gs = rw e refl
  named_label shut (moved_block e h) fs gs = rw e refl
  named_label shut (moved_case e g h) fs gs = rw e refl

  label_kept : (r : Room) (k : AstType) {d : ℕ → List Declared} {c : ℕ → Take} {fs gs : Fields} → MovedFields Fresh R (room_in r k) d c fs gs → label_in k gs ≡ label_in k fs
  label_kept r LabeledStatement (moved_then {fs = fs} {gs = gs} (moved_one h) hs) = named_label refl h fs gs
  label_kept r LabeledStatement _ = refl
  label_kept r _ h = refl

  -- SO THE TREES ARE THE SAME BUT FOR BARE `var`

  bare_before : {ds es : Trees} → GrownDeclarators Fresh ds es → BareDeclarators ds
  bare_before none_grown = none_bare
  bare_before (as_named e h) = one_bare (bare_before h)
  bare_before (one_grown e h) = bare_before h

  bare_after : {ds es : Trees} → GrownDeclarators Fresh ds es → BareDeclarators es
  bare_after none_grown = none_bare
  bare_after (as_named e h) = one_bare (bare_after h)
  bare_after (one_grown e h) = one_bare (bare_after h)

  -- a row may count on it that its node avoids what is bad
  module _ (bad : Level → Text → Bool) (Q : List Declared → Take → Tree → Tree → Type 0) (row : (ds : List Declared) (t : Take) (a b : Tree) → R ds t a b → avoids bad t a ≡ true → Q ds t a b) where
    mutual
      moved_beside : {r : Room} {ds : List Declared} {a b : Tree} (t : Take) → Moved Fresh R r ds t a b → avoids bad t a ≡ true → Beside bad Q ds t a b
      moved_beside t (moved_place e h) g = at_place (row _ _ _ _ h g)
      moved_beside t (moved_node {r = r} {k = k} {l = l} {fs = fs} e i h) g =
          let b1 : Bool = not (is_bad bad t.need.level k l.texts) in
          let b2 : Bool = all_good bad (names_of_all (own_names k fs)) in
          let b3 : Bool = avoids_fields bad (takes_of t k l.texts l.flags) fs in
          let v : (b2 && b3) ≡ true = both_right b1 (b2 && b3) g in
          in_node (not_so (is_bad bad t.need.level k l.texts) (both_left b1 (b2 && b3) g)) e i (own_kept r k h) (use_kept r k h) (label_kept r k h) (both_left b2 b3 v) (fields_beside (takes_of t k l.texts l.flags) h (both_right b2 b3 v))
      moved_beside t (moved_block {ts = ts} e h) g =
          let b2 : Bool = all_good bad (names_of_all (lexical_in ts)) in
          let b3 : Bool = avoids_trees bad value_taken ts in
          in_block (lexical_list h) (using_list h) (both_left b2 (b3 && true) g) (list_beside false h (both_left b3 true (both_right b2 (b3 && true) g)))
      moved_beside t (moved_case {f = f} {ts = ts} e j h) g =
          let b1 : Bool = avoids_field bad value_taken f in
          let b2 : Bool = avoids_trees bad value_taken ts in
          in_case (field_beside value_taken j (both_left b1 (b2 && true) g)) (list_beside false h (both_left b2 true (both_right b1 (b2 && true) g)))

      fields_beside : {r : ℕ → Room} {d : ℕ → List Declared} {fs gs : Fields} (c : ℕ → Take) → MovedFields Fresh R r d c fs gs → avoids_fields bad c fs ≡ true → BesideFields bad Q d c fs gs
      fields_beside c moved_done g = beside_done
      fields_beside c (moved_then {f = f} {fs = fs} h hs) g = beside_then (field_beside (c zero) h (both_left (avoids_field bad (c zero) f) (avoids_fields bad (λ i. c (suc i)) fs) g)) (fields_beside (λ i. c (suc i)) hs (both_right (avoids_field bad (c zero) f) (avoids_fields bad (λ i. c (suc i)) fs) g))

      field_beside : {r : Room} {ds : List Declared} {f e : Field} (t : Take) → MovedField Fresh R r ds t f e → avoids_field bad t f ≡ true → BesideField bad Q ds t f e
      field_beside t moved_missing g = beside_missing
      field_beside t (moved_one h) g = beside_one (moved_beside t h g)
      field_beside t (moved_many h) g = beside_many (trees_beside t h g)
      field_beside t (moved_statements h) g = beside_statements (trees_beside t h g)

      trees_beside : {r : Room} {ds : List Declared} {ts us : Trees} (t : Take) → MovedTrees Fresh R r ds t ts us → avoids_trees bad t ts ≡ true → BesideTrees bad Q ds t ts us
      trees_beside t moved_empty g = beside_empty
      trees_beside t (moved_before {a = a} {ts = ts} h hs) g = beside_before (moved_beside t h (both_left (avoids bad t a) (avoids_trees bad t ts) g)) (trees_beside t hs (both_right (avoids bad t a) (avoids_trees bad t ts) g))

      pub list_beside : {r : Room} {ds : List Declared} {ts us : Trees} (more : Bool) → MovedList Fresh R r ds more ts us → avoids_trees bad (take the_value more) ts ≡ true → BesideList bad Q ds more ts us
      list_beside more moved_end g = list_ends
      list_beside more (moved_statement {a = a} {ts = ts} h hs) g = both_have (moved_beside (take the_value more) h (both_left (avoids bad (take the_value more) a) (avoids_trees bad (take the_value more) ts) g)) (list_beside more hs (both_right (avoids bad (take the_value more) a) (avoids_trees bad (take the_value more) ts) g))
      list_beside more (moved_new e j hs) g = second_has (bare_var e (bare_after j)) (list_beside more hs g)
      list_beside more (moved_grown {l = l} {cs = cs} {ts = ts} e i j hs) g =
          let a : Tree = node VariableDeclaration l (many cs then done) in
          first_has (bare_var e (bare_before j)) (second_has (bare_var i (bare_after j)) (list_beside more hs (both_right (avoids bad (take the_value more) a) (avoids_trees bad (take the_value more) ts) g)))

  -- THE TOP DECLARES THEM MORE

  more_self : (ds : List Declared) → MoreDeclared (codes "var") xs ds ds
  more_self [] = none_declared
  more_self (d ∷ ds) = as_before (more_self ds)

  more_same : {ds es : List Declared} → es ≡ ds → MoreDeclared (codes "var") xs ds es
  more_same {ds = ds} e = rw e (more_self ds)

  more_append : {a b c d : List Declared} → MoreDeclared (codes "var") xs a b → MoreDeclared (codes "var") xs c d → MoreDeclared (codes "var") xs (a ++ c) (b ++ d)
  more_append none_declared g = g
  more_append (as_before h) g = as_before (more_append h g)
  more_append (declared_more e w h) g = declared_more e w (more_append h g)

  grown_more : {ds es : Trees} → GrownDeclarators Fresh ds es → MoreDeclared (codes "var") xs (declarators_names (codes "var") ds) (declarators_names (codes "var") es)
  grown_more none_grown = none_declared
  grown_more (as_named e h) = rw e (as_before (grown_more h))
  grown_more (one_grown e h) = declared_more e refl (grown_more h)

  var_kind : (r : Room) (k : AstType) (l m : Label) {d : ℕ → List Declared} {c : ℕ → Take} {fs gs : Fields} → m.texts ≡ l.texts → MovedFields Fresh R (room_in r k) d c fs gs → MoreDeclared (codes "var") xs (var_names_in fs) (var_names_in gs) → MoreDeclared (codes "var") xs (var_names (node k l fs)) (var_names (node k m gs))
  var_kind r VariableDeclaration l m e h g = rw e (more_same (where_kept r h (is_word (codes "var") (first_text l.texts)) (first_text l.texts)))
  var_kind r _ l m e h g = g

  mutual
    var_more : {r : Room} {ds : List Declared} {t : Take} {a b : Tree} → Moved Fresh R r ds t a b → MoreDeclared (codes "var") xs (var_names a) (var_names b)
    var_more (moved_place e h) = (mute _ _ _ _ h).vars
    var_more (moved_node {r = r} {k = k} {l = l} {m = m} e i h) = var_kind r k l m e h (fields_more h)
    var_more (moved_block e h) = more_append (list_more h) none_declared
    var_more (moved_case e g h) = more_append (field_more g) (more_append (list_more h) none_declared)

    fields_more : {r : ℕ → Room} {d : ℕ → List Declared} {c : ℕ → Take} {fs gs : Fields} → MovedFields Fresh R r d c fs gs → MoreDeclared (codes "var") xs (var_names_in fs) (var_names_in gs)
    fields_more moved_done = none_declared
    fields_more (moved_then h hs) = more_append (field_more h) (fields_more hs)

    field_more : {r : Room} {ds : List Declared} {t : Take} {f g : Field} → MovedField Fresh R r ds t f g → MoreDeclared (codes "var") xs (var_names_at f) (var_names_at g)
    field_more moved_missing = none_declared
    field_more (moved_one h) = var_more h
    field_more (moved_many h) = trees_more h
    field_more (moved_statements h) = trees_more h

    trees_more : {r : Room} {ds : List Declared} {t : Take} {ts us : Trees} → MovedTrees Fresh R r ds t ts us → MoreDeclared (codes "var") xs (var_names_all ts) (var_names_all us)
    trees_more moved_empty = none_declared
    trees_more (moved_before h hs) = more_append (var_more h) (trees_more hs)

    list_more : {r : Room} {ds : List Declared} {more : Bool} {ts us : Trees} → MovedList Fresh R r ds more ts us → MoreDeclared (codes "var") xs (var_names_all ts) (var_names_all us)
    list_more moved_end = none_declared
    list_more (moved_statement h hs) = more_append (var_more h) (list_more hs)
    list_more (moved_new e g hs) = rw e (more_append (grown_more g) (list_more hs))
    list_more (moved_grown e i g hs) = rw (e, i) (more_append (grown_more g) (list_more hs))

  case_last : {r : Room} {ds : List Declared} {t : Take} {f g : Field} → MovedField Fresh R r ds t f g → (ts us : Trees) → last_name (g then statements us then done) ≡ last_name (f then statements ts then done)
  case_last moved_missing ts us = refl
  case_last (moved_one {a = node k l fs} {b = node j m gs} h) ts us = refl
  case_last (moved_many h) ts us = refl
  case_last (moved_statements h) ts us = refl

  imports_kept : {r : Room} {ds : List Declared} {t : Take} {ts us : Trees} → r ≡ closed_room → MovedTrees Fresh R r ds t ts us → import_names us ≡ import_names ts
  imports_kept shut moved_empty = refl
  imports_kept shut (moved_before (moved_place e h) hs) = absurd (no_room shut e)
  imports_kept shut (moved_before (moved_node {r = r} {k = k} e i h) hs) = rw (last_kept (λ n. ap (λ q. room_in q k n) shut ∙ closed_below k n) h, imports_kept shut hs) refl
    where
      closed_below : (k : AstType) (i : ℕ) → room_in closed_room k i ≡ closed_room
      closed_below Program zero = refl
      closed_below LabeledStatement zero = refl
      closed_below SwitchStatement (suc i) = refl
      closed_below _ i = refl
  imports_kept shut (moved_before (moved_block e h) hs) = imports_kept shut hs
  imports_kept shut (moved_before (moved_case {ts = ts} {us = us} e j h) hs) = rw (case_last j ts us, imports_kept shut hs) refl

  top_place : (a b : Tree) → BothMute xs a b → MoreDeclared (codes "var") xs (top_names a) (top_names b)
  top_place (node k l fs) (node j m gs) h = rw (mute_top k l fs h.first, mute_top j m gs h.second) h.vars

  exported_place : (o p : Label) (a b : Tree) (fs gs : Fields) → BothMute xs a b → MoreDeclared (codes "var") xs (var_names_in fs) (var_names_in gs) → MoreDeclared (codes "var") xs (top_names (node ExportNamedDeclaration o (one a then fs))) (top_names (node ExportNamedDeclaration p (one b then gs)))
  exported_place o p (node k l hs) (node j m is) fs gs h g = rw (mute_exported k l o hs fs h.first, mute_exported j m p is gs h.second) (more_append h.vars g)

  export_kind : (r : Room) (k : AstType) (l m o p : Label) {d : ℕ → List Declared} {c : ℕ → Take} {fs gs : Fields} (hs is : Fields) → m.texts ≡ l.texts → MovedFields Fresh R (room_in r k) d c fs gs → MoreDeclared (codes "var") xs (var_names_in (one (node k l fs) then hs)) (var_names_in (one (node k m gs) then is)) →
      MoreDeclared (codes "var") xs (top_names (node ExportNamedDeclaration o (one (node k l fs) then hs))) (top_names (node ExportNamedDeclaration p (one (node k m gs) then is)))
  export_kind r VariableDeclaration l m o p hs is e h g = rw e (more_same (declaration_kept (binding_word (first_text l.texts)) r h))
  export_kind r _ l m o p hs is e h g = g

  exported_more : (o p : Label) {r : Room} {ds : List Declared} {t : Take} {a b : Tree} (fs gs : Fields) → Moved Fresh R r ds t a b → MoreDeclared (codes "var") xs (var_names_in fs) (var_names_in gs) → MoreDeclared (codes "var") xs (top_names (node ExportNamedDeclaration o (one a then fs))) (top_names (node ExportNamedDeclaration p (one b then gs)))
  exported_more o p fs gs (moved_place {a = a} {b = b} e h) g = exported_place o p a b fs gs (mute _ _ _ _ h) g
  exported_more o p fs gs (moved_node {r = r} {k = k} {l = l} {m = m} e i h) g = export_kind r k l m o p fs gs e h (more_append (var_kind r k l m e h (fields_more h)) g)
  exported_more o p fs gs (moved_block e h) g = more_append (more_append (list_more h) none_declared) g
  exported_more o p fs gs (moved_case e j h) g = more_append (more_append (field_more j) (more_append (list_more h) none_declared)) g

  top_kind : (r : Room) (k : AstType) (l m : Label) {d : ℕ → List Declared} {c : ℕ → Take} {fs gs : Fields} → m.texts ≡ l.texts → MovedFields Fresh R (room_in r k) d c fs gs → MoreDeclared (codes "var") xs (var_names_in fs) (var_names_in gs) → MoreDeclared (codes "var") xs (top_names (node k l fs)) (top_names (node k m gs))
  top_kind r VariableDeclaration l m e h g = rw e (more_same (declaration_kept (binding_word (first_text l.texts)) r h))
  top_kind r ImportDeclaration l m e (moved_then (moved_many h) hs) g = more_same (imports_kept refl h)
  top_kind r ImportDeclaration l m e _ g = g
  top_kind r ExportNamedDeclaration o p e (moved_then {fs = fs} {gs = gs} (moved_one h) hs) g = exported_more o p fs gs h (fields_more hs)
  top_kind r ExportNamedDeclaration l m e _ g = g
  top_kind r _ l m e h g = g

  top_more : {r : Room} {ds : List Declared} {t : Take} {a b : Tree} → Moved Fresh R r ds t a b → MoreDeclared (codes "var") xs (top_names a) (top_names b)
  top_more (moved_place {a = a} {b = b} e h) = top_place a b (mute _ _ _ _ h)
  top_more (moved_node {r = r} {k = k} {l = l} {m = m} e i h) = top_kind r k l m e h (fields_more h)
  top_more (moved_block e h) = more_append (list_more h) none_declared
  top_more (moved_case e g h) = more_append (field_more g) (more_append (list_more h) none_declared)

  pub tops_more : {r : Room} {ds : List Declared} {more : Bool} {ts us : Trees} → MovedList Fresh R r ds more ts us → MoreDeclared (codes "var") xs (top_in ts) (top_in us)
  tops_more moved_end = none_declared
  tops_more (moved_statement h hs) = more_append (top_more h) (tops_more hs)
  tops_more (moved_new e g hs) = rw e (more_append (grown_more g) (tops_more hs))
  tops_more (moved_grown e i g hs) = rw (e, i) (more_append (grown_more g) (tops_more hs))
