-- The visits of a core program declare the names that the declarations of its body declare.
use Rattle.std.proofs.Common.{◌≡◌, ℕ, zero, suc, refl, sym, subst, ap, ◌∙◌, List, [], ◌∷◌, ◌++◌, map}
use Rattle.std.proofs.lemmas.List.{append_assoc, map-append}
use Rattle.std.specs.Prelude.{Bool, true, false, ◌&&◌}
use Rattle.es_tree.specs.CoreStaticRules.{place_in, Visit, visits, visits_in_fields, visits_in_field, visits_in_trees, Name, declared, is_lexical, is_constant}
use Rattle.es_tree.specs.Names.{first_text}
use Rattle.es_tree.specs.Scopes.{Declared as Declaration, declared_of, declared_in_body, declared_by, declared_names}
use Rattle.es_tree.specs.Tree.{Tree, node, Label, Fields, done, ◌then◌, Field, missing, one, many, statements, Trees, empty, ◌before◌, kind_of}
use Rattle.es_tree.specs.Walks.{all_nodes, all_in_fields, all_in_field, all_in_trees}
use Rattle.es_tree.specs.Words.{Text}
use Rattle.es_tree.specs.declared.ast_type.AstType.{AstType}
use Rattle.es_tree.specs.declared.ast_type.AstType.TheVariants.{Identifier, Program, VariableDeclaration, VariableDeclarator}
use Rattle.es_tree.specs.declared.place.Place.{Place}
use Rattle.es_tree.specs.declared.place.Place.TheVariants.{Other, ProgramBody, Spine, Target, Declarator, Declared}
use Rattle.es_runs.specs.Standing.{field_stands, fields_stand, is_end, is_formed, is_program_kind, may_stand, trees_stand, undeclaring}
use Rattle.es_runs.proofs.Declarations.{binds_name, declarators, declares_names, statement, body_of, is_shaped, program_parts}
use Rattle.es_runs.proofs.Named.{and_left, and_right}
use Rattle.es_runs.proofs.StaticKeeps.{names_in}

names_in-append : (vs us : List Visit) → names_in (vs ++ us) ≡ names_in vs ++ names_in us
names_in-append [] us = refl
names_in-append (v ∷ vs) us = ap (λ ns. declared v.place v.tree ++ ns) (names_in-append vs us) ∙ sym (append_assoc (declared v.place v.tree) (names_in vs) (names_in us))

none_either : (vs us : List Visit) → names_in vs ≡ [] → names_in us ≡ [] → names_in (vs ++ us) ≡ []
none_either vs us h g = names_in-append vs us ∙ (λ i. h i ++ g i)

-- PLACES WHERE NOTHING IS DECLARED

-- neither a place of declarations of the program's body, nor one inside them
abbrev is_silent : Place → Bool
is_silent ProgramBody = false
is_silent (Declarator true lexical constant) = false
is_silent (Declared lexical) = false
is_silent _ = true

later_silent : (p : Place) (k : AstType) (l : Label) (n : ℕ) → is_program_kind k ≡ false → is_silent (place_in p k l (suc n)) ≡ true
later_silent p Program l zero h = absurd (cc h)
later_silent p _ l zero h = refl
later_silent p Program l (suc n) h = refl
later_silent p _ l (suc n) h = refl

silent_first : (p : Place) (k : AstType) (l : Label) → is_silent p ≡ true → is_silent (place_in p k l 0) ≡ true
silent_first Other VariableDeclaration l h = refl
silent_first Spine VariableDeclaration l h = refl
silent_first (Target s) VariableDeclaration l h = refl
silent_first (Declarator false lexical constant) VariableDeclaration l h = refl
silent_first Other _ l h = refl
silent_first Spine _ l h = refl
silent_first (Target s) _ l h = refl
silent_first (Declarator false lexical constant) _ l h = refl
silent_first ProgramBody _ l h = absurd (cc h)
silent_first (Declarator true lexical constant) _ l h = absurd (cc h)
silent_first (Declared lexical) _ l h = absurd (cc h)

silent_none : (p : Place) (t : Tree) → is_silent p ≡ true → declared p t ≡ []
silent_none (Declared lexical) t h = absurd (cc h)
silent_none _ t h = refl

-- a program stands nowhere inside
no_program : (k j : AstType) → may_stand k j ≡ true → is_program_kind j ≡ false
no_program k Program h = absurd (cc h)
no_program k _ h = refl

mutual
  silent_names : (p : Place) (t : Tree) → is_silent p ≡ true → is_program_kind (kind_of t) ≡ false → all_nodes undeclaring t ≡ true → names_in (visits p t) ≡ []
  silent_names p (node k l fs) h e u = λ i. silent_none p (node k l fs) h i ++ silent_node p k l fs (silent_first p k l h) e u i

  -- what stands inside a node declares nothing where its first field doesn't
  silent_node : (p : Place) (k : AstType) (l : Label) (fs : Fields) → is_silent (place_in p k l 0) ≡ true → is_program_kind k ≡ false → all_nodes undeclaring (node k l fs) ≡ true → names_in (visits_in_fields p k l 0 fs) ≡ []
  silent_node p k l done h e u = refl
  silent_node p k l (f then fs) h e u =
      let stand = and_left (field_stands k f && fields_stand k fs) (is_formed k (f then fs)) (and_left (undeclaring k l (f then fs)) (all_in_field undeclaring f && all_in_fields undeclaring fs) u) in
      let below = and_right (undeclaring k l (f then fs)) (all_in_field undeclaring f && all_in_fields undeclaring fs) u in
      none_either (visits_in_field (place_in p k l 0) f) (visits_in_fields p k l 1 fs)
      (silent_field (place_in p k l 0) k f h (and_left (field_stands k f) (fields_stand k fs) stand) (and_left (all_in_field undeclaring f) (all_in_fields undeclaring fs) below))
      (silent_rest p k l 0 fs e (and_right (field_stands k f) (fields_stand k fs) stand) (and_right (all_in_field undeclaring f) (all_in_fields undeclaring fs) below))

  -- what stands in the fields behind the first
  silent_rest : (p : Place) (k : AstType) (l : Label) (n : ℕ) (fs : Fields) → is_program_kind k ≡ false → fields_stand k fs ≡ true → all_in_fields undeclaring fs ≡ true → names_in (visits_in_fields p k l (suc n) fs) ≡ []
  silent_rest p k l n done e s u = refl
  silent_rest p k l n (f then fs) e s u =
      none_either (visits_in_field (place_in p k l (suc n)) f) (visits_in_fields p k l (suc (suc n)) fs)
      (silent_field (place_in p k l (suc n)) k f (later_silent p k l n e) (and_left (field_stands k f) (fields_stand k fs) s) (and_left (all_in_field undeclaring f) (all_in_fields undeclaring fs) u))
      (silent_rest p k l (suc n) fs e (and_right (field_stands k f) (fields_stand k fs) s) (and_right (all_in_field undeclaring f) (all_in_fields undeclaring fs) u))

  silent_field : (p : Place) (k : AstType) (f : Field) → is_silent p ≡ true → field_stands k f ≡ true → all_in_field undeclaring f ≡ true → names_in (visits_in_field p f) ≡ []
  silent_field p k missing h s u = refl
  silent_field p k (one t) h s u = silent_names p t h (no_program k (kind_of t) s) u
  silent_field p k (many ts) h s u = silent_trees p k ts h s u
  silent_field p k (statements ts) h s u = silent_trees p k ts h s u

  silent_trees : (p : Place) (k : AstType) (ts : Trees) → is_silent p ≡ true → trees_stand k ts ≡ true → all_in_trees undeclaring ts ≡ true → names_in (visits_in_trees p ts) ≡ []
  silent_trees p k empty h s u = refl
  silent_trees p k (t before ts) h s u =
      none_either (visits p t) (visits_in_trees p ts)
      (silent_names p t h (no_program k (kind_of t) (and_left (may_stand k (kind_of t)) (trees_stand k ts) s)) (and_left (all_nodes undeclaring t) (all_in_trees undeclaring ts) u))
      (silent_trees p k ts h (and_right (may_stand k (kind_of t)) (trees_stand k ts) s) (and_right (all_nodes undeclaring t) (all_in_trees undeclaring ts) u))

-- DECLARATIONS OF THE BODY

-- a declared name as the static rules see it
abbrev pub to_name : Declaration → Name
to_name d = record { text = d.name; lexical = is_lexical d.kind }

-- what one declarator declares
declarator_name : (kind : Text) (l : Label) (fs : Fields) → binds_name fs ≡ true → all_nodes undeclaring (node VariableDeclarator l fs) ≡ true → names_in (visits (Declarator true (is_lexical kind) (is_constant kind)) (node VariableDeclarator l fs)) ≡ map to_name (declared_names kind (node VariableDeclarator l fs before empty))
declarator_name kind l (one (node Identifier m gs) then fs) h u =
    let p : Place = Declarator true (is_lexical kind) (is_constant kind) in
    let binding : Place = Declared (is_lexical kind) in
    let stand : (may_stand VariableDeclarator Identifier && fields_stand VariableDeclarator fs) ≡ true = and_left (may_stand VariableDeclarator Identifier && fields_stand VariableDeclarator fs) true (and_left (undeclaring VariableDeclarator l (one (node Identifier m gs) then fs)) (all_nodes undeclaring (node Identifier m gs) && all_in_fields undeclaring fs) u) in
    let below = and_right (undeclaring VariableDeclarator l (one (node Identifier m gs) then fs)) (all_nodes undeclaring (node Identifier m gs) && all_in_fields undeclaring fs) u in
    let inside = silent_node binding Identifier m gs refl refl (and_left (all_nodes undeclaring (node Identifier m gs)) (all_in_fields undeclaring fs) below) in
    let rest = silent_rest p VariableDeclarator l 0 fs refl (and_right (may_stand VariableDeclarator Identifier) (fields_stand VariableDeclarator fs) stand) (and_right (all_nodes undeclaring (node Identifier m gs)) (all_in_fields undeclaring fs) below) in
    names_in-append (visits binding (node Identifier m gs)) (visits_in_fields p VariableDeclarator l 1 fs) ∙ (λ i. (record { text = first_text m.texts; lexical = is_lexical kind } ∷ inside i) ++ rest i)
declarator_name kind l (one (node _ m gs) then fs) h u = absurd (cc h)
declarator_name kind l (missing then fs) h u = absurd (cc h)
declarator_name kind l (many ts then fs) h u = absurd (cc h)
declarator_name kind l (statements ts then fs) h u = absurd (cc h)
declarator_name kind l done h u = absurd (cc h)

declarator_names : (kind : Text) (ds : Trees) → declarators ds ≡ true → all_in_trees undeclaring ds ≡ true → names_in (visits_in_trees (Declarator true (is_lexical kind) (is_constant kind)) ds) ≡ map to_name (declared_names kind ds)
declarator_names kind empty h u = refl
declarator_names kind (node VariableDeclarator l fs before ds) h u =
    let p : Place = Declarator true (is_lexical kind) (is_constant kind) in
    names_in-append (visits p (node VariableDeclarator l fs)) (visits_in_trees p ds)
    ∙ (λ i. declarator_name kind l fs (and_left (binds_name fs) (declarators ds) h) (and_left (all_nodes undeclaring (node VariableDeclarator l fs)) (all_in_trees undeclaring ds) u) i ++ declarator_names kind ds (and_right (binds_name fs) (declarators ds) h) (and_right (all_nodes undeclaring (node VariableDeclarator l fs)) (all_in_trees undeclaring ds) u) i)
declarator_names kind (node _ l fs before ds) h u = absurd (cc h)

append_nothing : {A : Type 0} (xs ys : List A) → ys ≡ [] → xs ++ ys ≡ xs
append_nothing [] ys e = e
append_nothing (x ∷ xs) ys e = ap (λ zs. x ∷ zs) (append_nothing xs ys e)

declaration_names : (l : Label) (fs : Fields) → declares_names fs ≡ true → all_nodes undeclaring (node VariableDeclaration l fs) ≡ true → names_in (visits ProgramBody (node VariableDeclaration l fs)) ≡ map to_name (declared_by (node VariableDeclaration l fs))
declaration_names l (many ds then fs) h u =
    let kind = first_text l.texts in
    let p : Place = Declarator true (is_lexical kind) (is_constant kind) in
    let stand = and_left (trees_stand VariableDeclaration ds && fields_stand VariableDeclaration fs) (is_end fs) (and_left (undeclaring VariableDeclaration l (many ds then fs)) (all_in_trees undeclaring ds && all_in_fields undeclaring fs) u) in
    let below = and_right (undeclaring VariableDeclaration l (many ds then fs)) (all_in_trees undeclaring ds && all_in_fields undeclaring fs) u in
    names_in-append (visits_in_trees p ds) (visits_in_fields ProgramBody VariableDeclaration l 1 fs)
    ∙ append_nothing (names_in (visits_in_trees p ds)) (names_in (visits_in_fields ProgramBody VariableDeclaration l 1 fs)) (silent_rest ProgramBody VariableDeclaration l 0 fs refl (and_right (trees_stand VariableDeclaration ds) (fields_stand VariableDeclaration fs) stand) (and_right (all_in_trees undeclaring ds) (all_in_fields undeclaring fs) below))
    ∙ declarator_names kind ds h (and_left (all_in_trees undeclaring ds) (all_in_fields undeclaring fs) below)
declaration_names l (one t then fs) h u = absurd (cc h)
declaration_names l (missing then fs) h u = absurd (cc h)
declaration_names l (statements ts then fs) h u = absurd (cc h)
declaration_names l done h u = absurd (cc h)

statement_names : (t : Tree) → statement t ≡ true → is_program_kind (kind_of t) ≡ false → all_nodes undeclaring t ≡ true → names_in (visits ProgramBody t) ≡ map to_name (declared_by t)
statement_names (node VariableDeclaration l fs) h e u = declaration_names l fs h u
statement_names (node Program l fs) h e u = absurd (cc e)
statement_names (node k l fs) h e u = silent_node ProgramBody k l fs refl e u

body_names : (ts : Trees) → body_of ts ≡ true → trees_stand Program ts ≡ true → all_in_trees undeclaring ts ≡ true → names_in (visits_in_trees ProgramBody ts) ≡ map to_name (declared_in_body ts)
body_names empty h s u = refl
body_names (t before ts) h s u =
    names_in-append (visits ProgramBody t) (visits_in_trees ProgramBody ts)
    ∙ (λ i.
    statement_names t (and_left (statement t) (body_of ts) h) (no_program Program (kind_of t) (and_left (may_stand Program (kind_of t)) (trees_stand Program ts) s)) (and_left (all_nodes undeclaring t) (all_in_trees undeclaring ts) u) i
    ++ body_names ts (and_right (statement t) (body_of ts) h) (and_right (may_stand Program (kind_of t)) (trees_stand Program ts) s) (and_right (all_nodes undeclaring t) (all_in_trees undeclaring ts) u) i)
    ∙ sym (map-append to_name (declared_by t) (declared_in_body ts))

whole_names : (l : Label) (ds body : Trees) → body_of body ≡ true → all_nodes undeclaring (node Program l (many ds then (statements body then done))) ≡ true → names_in (visits Other (node Program l (many ds then (statements body then done)))) ≡ map to_name (declared_in_body body)
whole_names l ds body h u =
    let stand : (trees_stand Program ds && (trees_stand Program body && true)) ≡ true = and_left (trees_stand Program ds && (trees_stand Program body && true)) true (and_left (undeclaring Program l (many ds then (statements body then done))) (all_in_trees undeclaring ds && (all_in_trees undeclaring body && true)) u) in
    let below : (all_in_trees undeclaring ds && (all_in_trees undeclaring body && true)) ≡ true = and_right (undeclaring Program l (many ds then (statements body then done))) (all_in_trees undeclaring ds && (all_in_trees undeclaring body && true)) u in
    names_in-append (visits_in_trees Other ds) (visits_in_trees ProgramBody body ++ [])
    ∙ (λ i. silent_trees Other Program ds refl (and_left (trees_stand Program ds) (trees_stand Program body && true) stand) (and_left (all_in_trees undeclaring ds) (all_in_trees undeclaring body && true) below) i ++ names_in (append_nothing (visits_in_trees ProgramBody body) [] refl i))
    ∙ body_names body h (and_left (trees_stand Program body) true (and_right (trees_stand Program ds) (trees_stand Program body && true) stand)) (and_left (all_in_trees undeclaring body) true (and_right (all_in_trees undeclaring ds) (all_in_trees undeclaring body && true) below))

-- the names that the visits of a core program declare, in their order
pub program_names : (t : Tree) → is_shaped t ≡ true → all_nodes undeclaring t ≡ true → names_in (visits Other t) ≡ map to_name (declared_of t)
program_names t h u =
    let parts = program_parts t h in
    let P : Tree → Type 0 = λ v. is_shaped v ≡ true → all_nodes undeclaring v ≡ true → names_in (visits Other v) ≡ map to_name (declared_of v) in
    subst P (sym parts.whole) (λ g v. whole_names parts.label parts.directives parts.body (and_left (body_of parts.body) true g) v) h u
