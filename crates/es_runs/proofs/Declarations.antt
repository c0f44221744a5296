-- Core programs that have form: what they declare, and that steps of rows keep it.
use Rattle.std.proofs.Common.{◌≡◌, ℕ, refl, sym, ap, ◌∙◌, [], ◌∷◌, ◌++◌}
use Rattle.std.proofs.lemmas.Bool.{and_from}
use Rattle.std.specs.Prelude.{Bool, true, false, ◌&&◌, if◌then◌else◌}
use Rattle.es_tree.specs.Words.{Text}
use Rattle.es_tree.specs.Scopes.{declared_of, program_names, declared_in_body, declared_by, declared_in, declared_names, name_in}
use Rattle.es_tree.specs.Tree.{Tree, node, Label, Fields, done, ◌then◌, Field, missing, one, many, statements, Trees, empty, ◌before◌, kind_of}
use Rattle.es_tree.specs.declared.ast_type.AstType.{AstType}
use Rattle.es_tree.specs.declared.ast_type.AstType.TheVariants.{Program, VariableDeclaration, VariableDeclarator, Identifier}
use Rattle.es_runs.specs.Alike.{Need}
use Rattle.es_runs.specs.Rules.{OnePlace, OneField, OneNode}
use Rattle.es_runs.specs.Rules.OnePlace.{this_place, below}
use Rattle.es_runs.specs.Rules.OneField.{first_field, later_field}
use Rattle.es_runs.specs.Rules.InField.{in_one, in_many, in_statements}
use Rattle.es_runs.specs.Rules.OneNode.{first_node, later_node}
use Rattle.es_runs.specs.Standing.{is_declaration, is_program_kind}
use Rattle.es_runs.proofs.Named.{and_left, and_right}
use Rattle.es_runs.proofs.RowFacts.{is_row_kind}
use Rattle.es_runs.proofs.RowKinds.{is_left_kind, RowKinds}

-- THE SHAPE OF DECLARATIONS

abbrev pub is_name : AstType → Bool
is_name Identifier = true
is_name _ = false

abbrev pub is_declarator : AstType → Bool
is_declarator VariableDeclarator = true
is_declarator _ = false

abbrev pub names_field : Field → Bool
names_field (one (node k l fs)) = is_name k
names_field _ = false

-- the first field is a name
abbrev pub binds_name : Fields → Bool
binds_name done = false
binds_name (f then fs) = names_field f

abbrev pub declarators : Trees → Bool
declarators empty = true
declarators (node k l fs before ts) = (is_declarator k && binds_name fs) && declarators ts

abbrev pub declarators_field : Field → Bool
declarators_field (many ds) = declarators ds
declarators_field _ = false

abbrev pub declares_names : Fields → Bool
declares_names done = false
declares_names (f then fs) = declarators_field f

abbrev pub statement : Tree → Bool
statement (node k l fs) = if is_declaration k then declares_names fs else true

abbrev pub body_of : Trees → Bool
body_of empty = true
body_of (t before ts) = statement t && body_of ts

abbrev pub is_list : Field → Bool
is_list (many ts) = true
is_list _ = false

abbrev pub is_body : Field → Bool
is_body (statements ts) = body_of ts
is_body _ = false

abbrev pub is_done : Fields → Bool
is_done done = true
is_done _ = false

abbrev pub last_of : Fields → Bool
last_of done = false
last_of (f then fs) = is_body f && is_done fs

abbrev pub program_fields : Fields → Bool
program_fields done = false
program_fields (f then fs) = is_list f && last_of fs

-- a program whose declarations are lists of declarators of names
abbrev pub is_shaped : Tree → Bool
is_shaped (node k l fs) = is_program_kind k && program_fields fs

-- WHAT STEPS KEEP

-- a test holds, and what is declared is the same
record Kept {A : Type 0} (test : Bool) (first then_it : A) : Type 0 where
  shaped : test ≡ true
  same : then_it ≡ first

-- what a row acts on is no name, no declarator and no program, and what it puts there declares nothing
not_name : (a : Tree) → is_row_kind (kind_of a) ≡ true → names_field (one a) ≡ false
not_name (node Identifier l fs) h = absurd (cc h)
not_name (node _ l fs) h = refl

not_declarator : (k : AstType) → is_row_kind k ≡ true → is_declarator k ≡ false
not_declarator VariableDeclarator h = absurd (cc h)
not_declarator _ h = refl

not_program : (k : AstType) → is_row_kind k ≡ true → is_program_kind k ≡ false
not_program Program h = absurd (cc h)
not_program _ h = refl

-- a statement that declares nothing
record Undeclared (t : Tree) : Type 0 where
  fits : statement t ≡ true
  none : declared_by t ≡ []

acted_undeclared : (a : Tree) → is_row_kind (kind_of a) ≡ true → Undeclared a
acted_undeclared (node VariableDeclaration l fs) h = absurd (cc h)
acted_undeclared (node _ l fs) h = record { fits = refl; none = refl }

left_undeclared : (a : Tree) → is_left_kind (kind_of a) ≡ true → Undeclared a
left_undeclared (node VariableDeclaration l fs) h = absurd (cc h)
left_undeclared (node _ l fs) h = record { fits = refl; none = refl }

module _ (R : Need → Tree → Tree → Type 0) (kinds : (n : Need) (a b : Tree) → R n a b → RowKinds a b) where
  name_kept : {c : ℕ → Need} {fs gs : Fields} → OneField R c fs gs → binds_name fs ≡ true → Kept (binds_name gs) (name_in fs) (name_in gs)
  name_kept (first_field (in_one (this_place {n = n} {a = a} {b = b} r))) h = absurd (cc (not_name a (kinds n a b r).acted, h))
  name_kept (first_field (in_one (below r))) h = record { shaped = h; same = refl }
  name_kept (first_field (in_many r)) h = absurd (cc h)
  name_kept (first_field (in_statements r)) h = absurd (cc h)
  name_kept (later_field {f = one t} r) h = record { shaped = h; same = refl }
  name_kept (later_field {f = missing} r) h = absurd (cc h)
  name_kept (later_field {f = many ts} r) h = absurd (cc h)
  name_kept (later_field {f = statements ts} r) h = absurd (cc h)

  declarators_kept : {n : Need} {ds es : Trees} (kind : Text) → OneNode R n ds es → declarators ds ≡ true → Kept (declarators es) (declared_names kind ds) (declared_names kind es)
  declarators_kept kind (first_node {xs = xs} (this_place {n = n} {a = node k l fs} {b = b} r)) h =
      let own = and_left (is_declarator k) (binds_name fs) (and_left (is_declarator k && binds_name fs) (declarators xs) h) in
      absurd (cc (not_declarator k (kinds n (node k l fs) b r).acted, own))
  declarators_kept kind (first_node {xs = xs} (below {k = k} {l = l} {fs = fs} {gs = gs} r)) h =
      let own = and_left (is_declarator k && binds_name fs) (declarators xs) h in
      let found = name_kept r (and_right (is_declarator k) (binds_name fs) own) in
      record {
        shaped = and_from (is_declarator k && binds_name gs) (declarators xs) (and_from (is_declarator k) (binds_name gs) (and_left (is_declarator k) (binds_name fs) own) found.shaped) (and_right (is_declarator k && binds_name fs) (declarators xs) h);
        same = ap (λ x. record { name = x; kind = kind } ∷ declared_names kind xs) found.same;
      }
  declarators_kept kind (later_node {a = node k l fs} {xs = xs} {ys = zs} r) h =
      let found = declarators_kept kind r (and_right (is_declarator k && binds_name fs) (declarators xs) h) in
      record {
        shaped = and_from (is_declarator k && binds_name fs) (declarators zs) (and_left (is_declarator k && binds_name fs) (declarators xs) h) found.shaped;
        same = ap (λ ds. record { name = name_in fs; kind = kind } ∷ ds) found.same;
      }

  list_kept : {c : ℕ → Need} {fs gs : Fields} (kind : Text) → OneField R c fs gs → declares_names fs ≡ true → Kept (declares_names gs) (declared_in VariableDeclaration kind fs) (declared_in VariableDeclaration kind gs)
  list_kept kind (first_field (in_many r)) h = let found = declarators_kept kind r h in record { shaped = found.shaped; same = found.same }
  list_kept kind (first_field (in_one r)) h = absurd (cc h)
  list_kept kind (first_field (in_statements r)) h = absurd (cc h)
  list_kept kind (later_field {f = many ts} r) h = record { shaped = h; same = refl }
  list_kept kind (later_field {f = missing} r) h = absurd (cc h)
  list_kept kind (later_field {f = one t} r) h = absurd (cc h)
  list_kept kind (later_field {f = statements ts} r) h = absurd (cc h)

  statement_kept : {n : Need} {s u : Tree} → OnePlace R n s u → statement s ≡ true → Kept (statement u) (declared_by s) (declared_by u)
  statement_kept (this_place {n = n} {a = a} {b = b} r) h =
      let both = kinds n a b r in
      let now = left_undeclared b both.left in
      record { shaped = now.fits; same = now.none ∙ sym (acted_undeclared a both.acted).none }
  statement_kept (below {k = VariableDeclaration} {l = l} r) h = let found = list_kept _ r h in record { shaped = found.shaped; same = found.same }
  statement_kept (below {k = _} r) h = record { shaped = h; same = refl }

  body_kept : {n : Need} {ts us : Trees} → OneNode R n ts us → body_of ts ≡ true → Kept (body_of us) (declared_in_body ts) (declared_in_body us)
  body_kept (first_node {a = a} {b = b} {xs = xs} r) h =
      let found = statement_kept r (and_left (statement a) (body_of xs) h) in
      record {
        shaped = and_from (statement b) (body_of xs) found.shaped (and_right (statement a) (body_of xs) h);
        same = ap (λ ds. ds ++ declared_in_body xs) found.same;
      }
  body_kept (later_node {a = a} {xs = xs} {ys = zs} r) h =
      let found = body_kept r (and_right (statement a) (body_of xs) h) in
      record {
        shaped = and_from (statement a) (body_of zs) (and_left (statement a) (body_of xs) h) found.shaped;
        same = ap (λ ds. declared_by a ++ ds) found.same;
      }

  last_kept : {c : ℕ → Need} {fs gs : Fields} (f : Field) → OneField R c fs gs → last_of fs ≡ true → Kept (last_of gs) (program_names (f then fs)) (program_names (f then gs))
  last_kept f (first_field {fs = fs} (in_statements {xs = xs} {ys = zs} r)) h =
      let found = body_kept r (and_left (body_of xs) (is_done fs) h) in
      record { shaped = and_from (body_of zs) (is_done fs) found.shaped (and_right (body_of xs) (is_done fs) h); same = found.same }
  last_kept f (first_field (in_one r)) h = absurd (cc h)
  last_kept f (first_field (in_many r)) h = absurd (cc h)
  last_kept f (later_field {f = g} {fs = done} r) h = elim r [ ]
  last_kept f (later_field {f = g} {fs = x then fs} r) h = let none = and_right (is_body g) false h in absurd (cc none)

  other_first : (f g : Field) (fs : Fields) → program_names (g then fs) ≡ program_names (f then fs)
  other_first f g done = refl
  other_first f g (statements ts then fs) = refl
  other_first f g (missing then fs) = refl
  other_first f g (one t then fs) = refl
  other_first f g (many ts then fs) = refl

  fields_kept : {c : ℕ → Need} {fs gs : Fields} → OneField R c fs gs → program_fields fs ≡ true → Kept (program_fields gs) (program_names fs) (program_names gs)
  fields_kept (first_field {f = f} {g = g} {fs = fs} (in_many r)) h = record { shaped = h; same = other_first f g fs }
  fields_kept (first_field (in_one r)) h = absurd (cc h)
  fields_kept (first_field (in_statements r)) h = absurd (cc h)
  fields_kept (later_field {f = f} {fs = fs} {gs = gs} r) h =
      let found = last_kept f r (and_right (is_list f) (last_of fs) h) in
      record { shaped = and_from (is_list f) (last_of gs) (and_left (is_list f) (last_of fs) h) found.shaped; same = found.same }

  pub step_shaped : {n : Need} {t u : Tree} → OnePlace R n t u → is_shaped t ≡ true → (is_shaped u ≡ true) × (declared_of u ≡ declared_of t)
  step_shaped (this_place {n = n} {a = node k l fs} {b = b} r) h = absurd (cc (not_program k (kinds n (node k l fs) b r).acted, and_left (is_program_kind k) (program_fields fs) h))
  step_shaped (below {k = k} {fs = fs} {gs = gs} r) h =
      let found = fields_kept r (and_right (is_program_kind k) (program_fields fs) h) in
      (and_from (is_program_kind k) (program_fields gs) (and_left (is_program_kind k) (program_fields fs) h) found.shaped, found.same)

-- the program by its parts
pub record ProgramParts (t : Tree) : Type 0 where
  pub label : Label
  pub directives : Trees
  pub body : Trees
  pub whole : t ≡ node Program label (many directives then (statements body then done))

pub program_parts : (t : Tree) → is_shaped t ≡ true → ProgramParts t
program_parts (node Program l (many ds then (statements body then done))) h = record { label = l; directives = ds; body = body; whole = refl }
program_parts (node Program l (many ds then (statements body then (g then fs)))) h = let none = and_right (body_of body) false h in absurd (cc none)
program_parts (node Program l done) h = absurd (cc h)
program_parts (node Program l (missing then fs)) h = absurd (cc h)
program_parts (node Program l (one t then fs)) h = absurd (cc h)
program_parts (node Program l (statements t then fs)) h = absurd (cc h)
program_parts (node Program l (many t then done)) h = absurd (cc h)
program_parts (node Program l (many t then (missing then fs))) h = absurd (cc h)
program_parts (node Program l (many t then (one u then fs))) h = absurd (cc h)
program_parts (node Program l (many t then (many u then fs))) h = absurd (cc h)
program_parts (node _ l fs) h = absurd (cc h)
