-- A valid program of the class means something.
use Rattle.std.proofs.Common.{◌≡◌, ◌∙◌, ℕ, zero, suc, refl, ap, subst, List, [], ◌∷◌, ◌++◌}
use Rattle.std.proofs.lemmas.Bool.{and_parts, and_from, false≢true, or_left, or_right}
use Rattle.std.specs.List.{list_any}
use Rattle.std.specs.Prelude.{Bool, true, false, not, ◌&&◌, ◌||◌, is_some, bytes_eq, codes, if◌then◌else◌}
use Rattle.es_tree.specs.Ancestors.{Ancestor, is_breakable, is_in_loop, labels, place_of}
use Rattle.es_tree.specs.Attributes.{child_entries}
use Rattle.es_tree.specs.Children.{child_at}
use Rattle.es_tree.specs.CoreStaticRules.{is_optional, is_stray_optional}
use Rattle.es_tree.specs.HasForm.{fields_form, has_form}
use Rattle.es_tree.specs.Names.{first_text, flag_at, is_name_place, is_reexport, names_in_fields, names_of, own_name}
use Rattle.es_tree.specs.StaticRules.{breaks as rules_broken, is_label, is_loop_label, is_missing_label}
use Rattle.es_tree.specs.Tree.{Tree, node, Label, Fields, done, ◌then◌, Field, missing, one, many, statements, Trees, empty, ◌before◌, kind_of, label_of}
use Rattle.es_tree.specs.Walks.{all_in_fields}
use Rattle.es_tree.specs.Words.{Text}
use Rattle.es_tree.specs.declared.ast_type.AstType.{AstType}
use Rattle.es_tree.specs.declared.ast_type.AstType.TheVariants.{Program, VariableDeclarator, BreakStatement, ContinueStatement, LabeledStatement, ImportSpecifier, ImportDefaultSpecifier, ImportNamespaceSpecifier, Identifier, MemberExpression, CallExpression, MetaProperty}
use Rattle.es_tree.specs.declared.place.Place.{Place}
use Rattle.es_tree.specs.declared.place.Place.TheVariants.{Other, ProgramBody, Spine, Target, Declarator, Declared}
use Rattle.es_tree.specs.declared.table.Entry.{Entry}
use Rattle.es_tree.specs.declared.table.Sort.TheVariants.{Program as s-Program, Identifier as s-Identifier, ModuleExportName as s-ModuleExportName}
use Rattle.es_tree.proofs.NodeForm.{node_form}
use Rattle.es_runs.specs.Core.{flag_after}
use Rattle.es_runs.specs.Machine.Stop.{breaks, continues}
use Rattle.es_statement_runs.specs.Helpers.{Supply}
use Rattle.es_statement_runs.specs.Helpers.Supply.{no_helpers, by_global, by_import, by_require, spread_by_global}
use Rattle.es_statement_runs.specs.Kinds.{label_in}
use Rattle.es_statement_runs.specs.Laws.{LawValidIsMeant, LawValidMeaning}
use Rattle.es_statement_runs.specs.Meant.{Role, allowed, Spot, nature, serves, Slot, Slots, slots, spots, as_role, all_meant, are_meant, fits_head, has_value, is_label_there, is_meant, is_meant_at, is_meant_field, is_plain_word, is_said, is_some_name, labels_in, named_label, word_in}
use Rattle.es_statement_runs.specs.Meant.Role.{a_value, a_head_declarator}
use Rattle.es_statement_runs.specs.Meant.Slot.{required, optional, absent, listed, nonempty, a_key, passed, labelled_by}
use Rattle.es_statement_runs.specs.Meant.Slots.{no_slot, slot, repeated}
use Rattle.es_statement_runs.specs.Names.{is_word, last_name, names_of_all, own_names, own_use}
use Rattle.es_statement_runs.specs.Programs.{is_statement_node, is_without_functions, names_no_cell, uses_no_helper}
use Rattle.es_statement_runs.specs.Scopes.{is_own_cell}
use Rattle.es_statement_runs.proofs.MeantProof.{law_meant_proof}
use Rattle.es_statement_runs.proofs.NoHelpers.{law_no_helper_proof}
use Rattle.es_statement_runs.proofs.ValidFields.{FieldOk, FieldsOk, Known, TreeOk, TreesOk, known_second, label_fits, no_supply, tree_keeps}
use Rattle.es_statement_runs.proofs.ValidForm.{kind_passes}
use Rattle.es_statement_runs.proofs.ValidNames.{cells_free, free_in, no_cell_free, own_free}
use Rattle.es_statement_runs.proofs.ValidNodes.{FormOf, first_flag, node_ok}
use Rattle.es_statement_runs.proofs.ValidRules.{Keeps, program_keeps}
use Rattle.es_statement_runs.proofs.ValidStands.{Stands, Ways, fits_declarator, is_spine, not_false, or_false}

abbrev later_entries : List Entry → List Entry
later_entries [] = []
later_entries (e ∷ es) = es

-- WHAT A NODE SAYS ITSELF

first_not : (a b : Bool) → not (a || b) ≡ true → not a ≡ true
first_not true b h = h
first_not false b h = refl

plain_word : (u : Supply) (x : Text) (xs : List Text) → not (is_own_cell x) ≡ true → no_supply u (x ∷ xs) ≡ true → is_plain_word u x ≡ true
plain_word by_global x xs h g = and_from (not (is_own_cell x)) (not (bytes_eq x (codes "babelHelpers"))) h (first_not (bytes_eq x (codes "babelHelpers")) _ g)
plain_word spread_by_global x xs h g = and_from (not (is_own_cell x)) (not (bytes_eq x (codes "babelHelpers"))) h (first_not (bytes_eq x (codes "babelHelpers")) _ g)
plain_word no_helpers x xs h g = and_from (not (is_own_cell x)) true h refl
plain_word (by_import m) x xs h g = and_from (not (is_own_cell x)) true h refl
plain_word (by_require m) x xs h g = and_from (not (is_own_cell x)) true h refl

-- an optional mark stands on the spine of a chain
mark_cuts : (p : Place) (t : Tree) (b : Bool) → is_stray_optional p t ≡ false → (is_spine p ≡ true → b ≡ true) → (not (is_optional (kind_of t) (label_of t)) || b) ≡ true
mark_cuts Spine t b h g = or_right (not (is_optional (kind_of t) (label_of t))) b (g refl)
mark_cuts Other t b h g = or_left (not (is_optional (kind_of t) (label_of t))) b (ap not h)
mark_cuts ProgramBody t b h g = or_left (not (is_optional (kind_of t) (label_of t))) b (ap not h)
mark_cuts (Target s) t b h g = or_left (not (is_optional (kind_of t) (label_of t))) b (ap not h)
mark_cuts (Declarator top lexical constant) t b h g = or_left (not (is_optional (kind_of t) (label_of t))) b (ap not h)
mark_cuts (Declared lexical) t b h g = or_left (not (is_optional (kind_of t) (label_of t))) b (ap not h)

second_flag : (bs : List Bool) → flag_after bs ≡ flag_at 1 bs
second_flag [] = refl
second_flag (b ∷ []) = refl
second_flag (b ∷ (c ∷ bs)) = refl

break_said : {here : Bool} {ls : List Text} (up : List Ancestor) (c : Spot) (l : Label) (fs : Fields) → is_missing_label up (node BreakStatement l fs) ≡ false → Ways (is_breakable up) (is_in_loop up) (labels up) here c.exits ls →
    allowed c.exits (breaks (named_label BreakStatement fs)) ≡ true
break_said up c l (one (node k m gs) then fs) h w = w.label (first_text m.texts) (not_false (list_any (is_label (first_text m.texts)) (labels up)) h)
break_said up c l done h w = w.break_ (not_false (is_breakable up) h)
break_said up c l (missing then fs) h w = w.break_ (not_false (is_breakable up) h)
break_said up c l (many ts then fs) h w = w.break_ (not_false (is_breakable up) h)
break_said up c l (statements ts then fs) h w = w.break_ (not_false (is_breakable up) h)

continue_said : {ls : List Text} (up : List Ancestor) (c : Spot) (l : Label) (fs : Fields) → is_missing_label up (node ContinueStatement l fs) ≡ false → Ways (is_breakable up) (is_in_loop up) (labels up) false c.exits ls →
    allowed c.exits (continues (named_label ContinueStatement fs)) ≡ true
continue_said up c l (one (node k m gs) then fs) h w = or_false _ (w.loop (first_text m.texts) (not_false (list_any (is_loop_label (first_text m.texts)) (labels up)) h))
continue_said up c l done h w = w.continue_ (not_false (is_in_loop up) h)
continue_said up c l (missing then fs) h w = w.continue_ (not_false (is_in_loop up) h)
continue_said up c l (many ts then fs) h w = w.continue_ (not_false (is_in_loop up) h)
continue_said up c l (statements ts then fs) h w = w.continue_ (not_false (is_in_loop up) h)

label_said : (l : Label) (fs : Fields) → fields_form LabeledStatement l (child_entries LabeledStatement) fs ≡ true → is_label_there (label_in LabeledStatement fs) ≡ true
label_said l (one (node k m gs) then fs) h = refl
label_said l done h = absurd (false≢true h)
label_said l (missing then fs) h = absurd (false≢true h)
label_said l (many ts then fs) h = absurd (false≢true h)
label_said l (statements ts then fs) h = absurd (false≢true h)

-- a declarator without a node as its value has none
valueless : (l : Label) (fs : Fields) → fields_form VariableDeclarator l (child_entries VariableDeclarator) fs ≡ true → not (is_some (child_at 1 fs)) ≡ true → not (has_value VariableDeclarator fs) ≡ true
valueless l (f then (missing then fs)) h g = refl
valueless l (f then (one t then fs)) h g = absurd (false≢true g)
valueless l (f then (many ts then fs)) h g = absurd (false≢true (and_parts _ false h).1)
valueless l (f then (statements ts then fs)) h g = absurd (false≢true (and_parts _ false h).1)
valueless l (f then done) h g = absurd (false≢true (and_parts _ false h).1)
valueless l done h g = absurd (false≢true h)

head_said : (r : Role) (up : List Ancestor) (l : Label) (fs : Fields) → fields_form VariableDeclarator l (child_entries VariableDeclarator) fs ≡ true → fits_declarator up r fs ≡ true → fits_head r (has_value VariableDeclarator fs) ≡ true
head_said a_head_declarator up l fs h g = valueless l fs h g
head_said _ up l fs h g = refl

-- an import's item has its name here as its last field
abbrev is_identifier : AstType → Bool
is_identifier Identifier = true
is_identifier _ = false

item_said : (k : AstType) (m : Label) (gs : Fields) → is_identifier k ≡ true → cells_free (node k m gs) ≡ true → not (is_own_cell (first_text m.texts)) ≡ true
item_said Identifier m gs e h = (and_parts (not (is_own_cell (first_text m.texts))) true (and_parts (not (is_own_cell (first_text m.texts)) && true) _ h).0).0
item_said _ m gs e h = absurd (false≢true e)

default_said : (k : AstType) (l : Label) (fs : Fields) (counts : ℕ → Bool) → counts zero ≡ true → fields_form k l (child_entries ImportDefaultSpecifier) fs ≡ true → free_in counts fs ≡ true → is_some_name (names_of_all (last_name fs)) ≡ true
default_said k l (one (node j m gs) then done) counts c h g =
    item_said j m gs (kind_passes is_identifier s-Identifier (node j m gs) (and_parts (has_form s-Identifier (node j m gs)) true h).0 refl)
    (subst (λ b. (if b then cells_free (node j m gs) else true) ≡ true) c (and_parts (if counts zero then cells_free (node j m gs) else true) true g).0)
default_said k l (one (node j m gs) then (f then fs)) counts c h g = absurd (false≢true (and_parts _ false h).1)
default_said k l done counts c h g = absurd (false≢true h)
default_said k l (missing then fs) counts c h g = absurd (false≢true h)
default_said k l (many ts then fs) counts c h g = absurd (false≢true h)
default_said k l (statements ts then fs) counts c h g = absurd (false≢true h)

specifier_said : (l : Label) (fs : Fields) → fields_form ImportSpecifier l (child_entries ImportSpecifier) fs ≡ true → free_in (is_name_place ImportSpecifier l) fs ≡ true → is_some_name (names_of_all (last_name fs)) ≡ true
specifier_said l (one (node j m gs) then (f then fs)) h g =
    default_said ImportSpecifier l (f then fs) (λ n. is_name_place ImportSpecifier l (suc n)) refl (and_parts (has_form s-ModuleExportName (node j m gs)) _ h).1 g
specifier_said l (one (node j m gs) then done) h g = absurd (false≢true (and_parts (has_form s-ModuleExportName (node j m gs)) false h).1)
specifier_said l done h g = absurd (false≢true h)
specifier_said l (missing then fs) h g = absurd (false≢true h)
specifier_said l (many ts then fs) h g = absurd (false≢true h)
specifier_said l (statements ts then fs) h g = absurd (false≢true h)

-- what is known of a node
record NodeKnown (u : Supply) (up : List Ancestor) (c : Spot) (ls : List Text) (x : Text) (k : AstType) (l : Label) (fs : Fields) : Type 0 where
  form : FormOf k l fs
  keeps : Keeps up (node k l fs)
  class : is_statement_node k l fs ≡ true
  cells : names_no_cell k l fs ≡ true
  names : no_supply u (own_name true k l ++ (if is_reexport k fs then [] else names_in_fields (is_name_place k l) fs)) ≡ true
  free : own_free k fs ≡ true
  inside : (if is_reexport k fs then true else free_in (is_name_place k l) fs) ≡ true
  stands : Stands up c ls x (node k l fs)

module _ (u : Supply) (up : List Ancestor) (c : Spot) (ls : List Text) (x : Text) where
  said : (k : AstType) (l : Label) (fs : Fields) → NodeKnown u up c ls x k l fs → is_said u c k l.texts l.flags (has_value k fs) (names_of_all (own_names k fs)) (named_label k fs) x ≡ true
  said Identifier l fs h = plain_word u (first_text l.texts) _ h.cells h.names
  said MemberExpression l fs h = ap (λ b. not b || c.exits.cuts) (second_flag l.flags) ∙ mark_cuts (place_of up) (node MemberExpression l fs) c.exits.cuts h.keeps.mark h.stands.spine
  said CallExpression l fs h = ap (λ b. not b || c.exits.cuts) (first_flag l.flags) ∙ mark_cuts (place_of up) (node CallExpression l fs) c.exits.cuts h.keeps.mark h.stands.spine
  said BreakStatement l fs h = break_said up c l fs h.keeps.label (h.stands.ways refl)
  said ContinueStatement l fs h = continue_said up c l fs h.keeps.label (h.stands.ways refl)
  said LabeledStatement l fs h = label_said l fs h.form
  said VariableDeclarator l fs h =
      let d = and_parts (not (is_word (codes "using") x) || c.uses) (fits_declarator up c.role fs) h.stands.fit in
      and_from (not (is_word (codes "using") x) || c.uses) (fits_head c.role (has_value VariableDeclarator fs)) d.0 (head_said c.role up l fs h.form d.1)
  said MetaProperty l fs h = h.class
  said ImportSpecifier l fs h = specifier_said l fs h.form h.inside
  said ImportDefaultSpecifier l fs h = default_said ImportDefaultSpecifier l fs (is_name_place ImportDefaultSpecifier l) refl h.form h.inside
  said ImportNamespaceSpecifier l fs h = default_said ImportNamespaceSpecifier l fs (is_name_place ImportNamespaceSpecifier l) refl h.form h.inside
  said _ l fs h = h.free

label_meant : (u : Supply) (c : Spot) (ls : List Text) (x : Text) (ns : List Text) (f : Field) → label_fits ns f ≡ true → is_meant_field u (labelled_by ns) c ls x f ≡ true
label_meant u c ls x [] missing h = refl
label_meant u c ls x [] (one t) h = absurd (false≢true h)
label_meant u c ls x [] (many ts) h = absurd (false≢true h)
label_meant u c ls x [] (statements ts) h = absurd (false≢true h)
label_meant u c ls x (n ∷ []) (one t) h = h
label_meant u c ls x (n ∷ []) missing h = absurd (false≢true h)
label_meant u c ls x (n ∷ []) (many ts) h = absurd (false≢true h)
label_meant u c ls x (n ∷ []) (statements ts) h = absurd (false≢true h)
label_meant u c ls x (n ∷ (m ∷ ns)) f h = absurd (false≢true h)

module _ (u : Supply) where
  known : (up : List Ancestor) (c : Spot) (ls : List Text) (x : Text) (k : AstType) (l : Label) (fs : Fields) → TreeOk u up c ls x (node k l fs) → NodeKnown u up c ls x k l fs
  known up c ls x k l fs h =
      let class = and_parts (is_statement_node k l fs) (all_in_fields is_statement_node fs) h.known.class in
      let cells = and_parts (names_no_cell k l fs && own_free k fs) (if is_reexport k fs then true else free_in (is_name_place k l) fs) h.known.cells in
      let own = and_parts (names_no_cell k l fs) (own_free k fs) cells.0 in
      record {
        form = (node_form h.sort k l fs h.form).children;
        keeps = tree_keeps h.keeps;
        class = class.0;
        cells = own.0;
        names = h.known.names;
        free = own.1;
        inside = cells.1;
        stands = h.stands;
      }

  below : (up : List Ancestor) (c : Spot) (ls : List Text) (x : Text) (k : AstType) (l : Label) (fs : Fields) → TreeOk u up c ls x (node k l fs) → Known u (all_in_fields is_statement_node fs) (if is_reexport k fs then true else free_in (is_name_place k l) fs) (if is_reexport k fs then [] else names_in_fields (is_name_place k l) fs)
  below up c ls x k l fs h = known_second (is_statement_node k l fs) (all_in_fields is_statement_node fs) (names_no_cell k l fs && own_free k fs) (if is_reexport k fs then true else free_in (is_name_place k l) fs) (own_name true k l) (if is_reexport k fs then [] else names_in_fields (is_name_place k l) fs) h.known

  mutual
    tree_meant : (up : List Ancestor) (c : Spot) (ls : List Text) (x : Text) (t : Tree) → TreeOk u up c ls x t → is_meant_at u c ls x t ≡ true
    tree_meant up c ls x (node k l fs) h =
        let d = known up c ls x k l fs h in
        let ok = node_ok u up c ls x k l fs h.keeps d.form (below up c ls x k l fs h) h.stands in
        and_from (serves (nature k) c.role) _ h.stands.role
        (and_from (is_said u c k l.texts l.flags (has_value k fs) (names_of_all (own_names k fs)) (named_label k fs) x) _ (said u up c ls x k l fs d)
        (fields_meant (slots k l.flags (has_value k fs) (named_label k fs)) ok.at (spots c k l.texts (own_use k fs) (has_value k fs) (named_label k fs) ls) (labels_in k (named_label k fs) ls) (word_in k l.texts) fs ok.fields))

    fields_meant : (ss : Slots) (at : ℕ → List Ancestor) (c : ℕ → Spot) (ls : List Text) (x : Text) (fs : Fields) → FieldsOk u ss at c ls x fs → are_meant u ss c ls x fs ≡ true
    fields_meant no_slot at c ls x done h = refl
    fields_meant no_slot at c ls x (f then fs) h = absurd h
    fields_meant (slot s ss) at c ls x done h = absurd h
    fields_meant (slot s ss) at c ls x (f then fs) h = and_from (is_meant_field u s (c zero) ls x f) _ (field_meant s (at zero) (c zero) ls x f h.0) (fields_meant ss (λ i. at (suc i)) (λ i. c (suc i)) ls x fs h.1)
    fields_meant (repeated s) at c ls x done h = refl
    fields_meant (repeated s) at c ls x (f then fs) h = and_from (is_meant_field u s (c zero) ls x f) _ (field_meant s (at zero) (c zero) ls x f h.0) (fields_meant (repeated s) (λ i. at (suc i)) (λ i. c (suc i)) ls x fs h.1)

    field_meant : (s : Slot) (up : List Ancestor) (c : Spot) (ls : List Text) (x : Text) (f : Field) → FieldOk u s up c ls x f → is_meant_field u s c ls x f ≡ true
    field_meant required up c ls x (one t) h = tree_meant up c ls x t h
    field_meant optional up c ls x missing h = refl
    field_meant optional up c ls x (one t) h = tree_meant up c ls x t h
    field_meant absent up c ls x missing h = refl
    field_meant listed up c ls x (many ts) h = trees_meant up c ls x ts h
    field_meant listed up c ls x (statements ts) h = trees_meant up c ls x ts h
    field_meant nonempty up c ls x (many (t before ts)) h = and_from (is_meant_at u c ls x t) (all_meant u c ls x ts) (tree_meant up c ls x t h.0) (trees_meant up c ls x ts h.1)
    field_meant a_key up c ls x (one t) h = refl
    field_meant passed up c ls x f h = refl
    field_meant (labelled_by ns) up c ls x f h = label_meant u c ls x ns f h
    field_meant _ up c ls x f h = absurd h

    trees_meant : (up : List Ancestor) (c : Spot) (ls : List Text) (x : Text) (ts : Trees) → TreesOk u up c ls x ts → all_meant u c ls x ts ≡ true
    trees_meant up c ls x empty h = refl
    trees_meant up c ls x (t before ts) h = and_from (is_meant_at u c ls x t) (all_meant u c ls x ts) (tree_meant up c ls x t h.0) (trees_meant up c ls x ts h.1)

-- THE PROGRAM

abbrev is_program : AstType → Bool
is_program Program = true
is_program _ = false

program_stands : (p : Tree) → is_program (kind_of p) ≡ true → Stands [] (as_role a_value false) [] [] p
program_stands (node Program l fs) h = record {
  role = refl;
  spine = λ e. absurd (false≢true e);
  ways = λ e. record { break_ = λ d. absurd (false≢true d); continue_ = λ d. absurd (false≢true d); label = λ y d. absurd (false≢true d); loop = λ y d. absurd (false≢true d) };
  fit = refl;
}
program_stands (node _ l fs) h = absurd (false≢true h)

unsupplied : (u : Supply) (p : Tree) → uses_no_helper u p ≡ true → no_supply u (names_of p) ≡ true
unsupplied by_global p h = h
unsupplied spread_by_global p h = h
unsupplied no_helpers p h = refl
unsupplied (by_import m) p h = refl
unsupplied (by_require m) p h = refl

-- where no name of it is one of the machine's own cells, whatever its keys and labels are
pub valid_meant : (u : Supply) (p : Tree) → has_form s-Program p ≡ true → rules_broken p ≡ [] → is_without_functions p ≡ true → cells_free p ≡ true → uses_no_helper u p ≡ true → is_meant u p ≡ true
valid_meant u p form rules class cells g = tree_meant u [] (as_role a_value false) [] [] p (record {
  sort = s-Program;
  form = form;
  keeps = program_keeps p rules;
  known = record { class = class; cells = cells; names = unsupplied u p g };
  stands = program_stands p (kind_passes is_program s-Program p form refl);
})

pub law_valid_is_meant_proof : LawValidIsMeant
law_valid_is_meant_proof u p h g = valid_meant u p h.form h.rules h.without_functions (no_cell_free p h.names) g

pub law_valid_meaning_proof : LawValidMeaning
law_valid_meaning_proof u n p h g = law_meant_proof u n p (law_valid_is_meant_proof u p h g) (law_no_helper_proof u p g)
