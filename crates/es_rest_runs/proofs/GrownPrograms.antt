-- The same of a program's list.
use Rattle.std.proofs.Common.{◌≡◌, suc, refl, List}
use Rattle.std.specs.Prelude.{Bool, true, false}
use Rattle.std.proofs.lemmas.Bool.{and_parts}
use Rattle.es_tree.specs.Names.{first_text}
use Rattle.es_tree.specs.Scopes.{Declared}
use Rattle.es_tree.specs.Tree.{Tree, node, Label, Fields, done, ◌then◌, Field, missing, one, many, statements, Trees, kind_of}
use Rattle.es_tree.specs.Words.{Text}
use Rattle.es_tree.specs.declared.ast_type.AstType.{AstType}
use Rattle.es_tree.specs.declared.ast_type.AstType.TheVariants.{ExportNamedDeclaration, ImportDeclaration, Program, VariableDeclaration}
use Rattle.es_runs.specs.Alike.{Level}
use Rattle.es_runs.specs.Runs.{program}
use Rattle.es_statement_runs.specs.Laws.{among_names, body_needs}
use Rattle.es_statement_runs.specs.Names.{binding_word, top_in, top_names}
use Rattle.es_statement_runs.specs.Places.{Take, avoids, avoids_trees}
use Rattle.es_statement_steps.proofs.Below.{Below, BelowTrees, map_below, map_field}
use Rattle.es_statement_steps.proofs.Stands.{child_parts, is_inner, is_plain, is_program, shaped, standing, word_of}
use Rattle.es_split_runs.specs.Growing.{GrownTrees, NamesMore}
use Rattle.es_split_runs.specs.Growing.GrownTrees.{grown_before}
use Rattle.es_split_runs.proofs.GrownScopes.{same_names}
use Rattle.es_split_runs.proofs.SelfGrown.{self_grown, selves_grown}
use Rattle.es_rest_runs.specs.Changing.{Changed, ChangedAmong, ChangedIn}
use Rattle.es_rest_runs.specs.Changing.Changed.{below, here}
use Rattle.es_rest_runs.specs.Changing.ChangedAmong.{head_of, tail_of}
use Rattle.es_rest_runs.specs.Changing.ChangedBy.{many_of, one_of, statements_of}
use Rattle.es_rest_runs.specs.Changing.ChangedIn.{first_of, later_of}
use Rattle.es_rest_runs.specs.Growth.{Grows}
use Rattle.es_rest_runs.specs.Growth.Grows.{grows}
use Rattle.es_rest_runs.specs.Tests.{exports_declaration}
use Rattle.es_rest_runs.proofs.GrownNames.{Apt, Decl, Part, declaration_still, import_still, in_left, in_right, inner_by, inner_in, more_append, parts_of, var_declares, var_more}
use Rattle.es_rest_runs.proofs.GrownPlaces.{grown, may_stand}

-- a program with a list in which one place is changed
pub record ProgramChanged (A : Tree → Tree → Type 0) (p q : Tree) : Type 0 where
  pub label : Label
  pub directives : Trees
  pub body : Trees
  pub after : Trees
  pub first : p ≡ program label directives body
  pub second : q ≡ program label directives after
  pub changed : ChangedAmong A body after
  pub parts : BelowTrees (Part Program 1) body

module _ (v : Bool) (xs : List Text) (A : Tree → Tree → Type 0) (grow : (a b : Tree) → A a b → Grows v xs a b) where
  abbrev More : List Declared → List Declared → Type 0
  More = NamesMore (among_names xs)

  below_declaration : {fs gs : Fields} (k : AstType) (l : Label) → exports_declaration (node k l fs) ≡ true → ChangedIn A fs gs → Apt (node k l fs) → ⊥
  below_declaration VariableDeclaration l e h apt = declaration_still v xs A grow l h apt
  below_declaration _ l e h apt = absurd (cc e)

  -- what an export declares
  grown_export : {a b : Tree} (l : Label) (fs : Fields) → Grows v xs a b → More (top_names (node ExportNamedDeclaration l (one a then fs))) (top_names (node ExportNamedDeclaration l (one b then fs)))
  grown_export l fs (grows m ds es word lone more names) = more (binding_word (first_text m.texts))

  export_names : {a b : Tree} (l : Label) (fs : Fields) → Grows v xs a b → Decl xs (top_names (node ExportNamedDeclaration l (one b then fs)))
  export_names l fs (grows m ds es word lone more names) = names (binding_word (first_text m.texts))

  export_rest : {fs gs : Fields} → ChangedIn A fs gs → Below (λ i t. Part ExportNamedDeclaration (suc i) t) fs → ⊥
  export_rest {fs = fs} h p = inner_in v xs A grow h (map_below (λ i t. Part ExportNamedDeclaration (suc i) t) (λ i t. Apt t × (is_inner (kind_of t) ≡ true)) (λ i t q. (q.0, (child_parts ExportNamedDeclaration (suc i) t q.1.0).part)) fs p)

  export_more : {fs gs : Fields} (l : Label) → ChangedIn A fs gs → shaped ExportNamedDeclaration fs ≡ true → Below (λ i t. Part ExportNamedDeclaration i t) fs → More (top_names (node ExportNamedDeclaration l fs)) (top_names (node ExportNamedDeclaration l gs))
  export_more l (first_of {fs = fs} (one_of (here {a = a} {b = b} h))) s p = grown_export l fs (grow a b h)
  export_more l (first_of (one_of (below {k = k} {l = m} h))) s p = absurd (below_declaration k m p.0.1.1 h p.0.0)
  export_more l (first_of (many_of h)) s p = absurd (cc s)
  export_more l (first_of (statements_of h)) s p = absurd (cc s)
  export_more l (later_of h) s p = absurd (export_rest h p.1)

  export_declares : {fs gs : Fields} (l : Label) → ChangedIn A fs gs → shaped ExportNamedDeclaration fs ≡ true → Below (λ i t. Part ExportNamedDeclaration i t) fs → Decl xs (top_names (node ExportNamedDeclaration l gs))
  export_declares l (first_of {fs = fs} (one_of (here {a = a} {b = b} h))) s p = export_names l fs (grow a b h)
  export_declares l (first_of (one_of (below {k = k} {l = m} h))) s p = absurd (below_declaration k m p.0.1.1 h p.0.0)
  export_declares l (first_of (many_of h)) s p = absurd (cc s)
  export_declares l (first_of (statements_of h)) s p = absurd (cc s)
  export_declares l (later_of h) s p = absurd (export_rest h p.1)

  -- what a statement of the program declares at the top
  grown_top : {a b : Tree} → Grows v xs a b → More (top_names a) (top_names b)
  grown_top (grows m ds es word lone more names) = more (binding_word (first_text m.texts))

  top_named : {a b : Tree} → Grows v xs a b → Decl xs (top_names b)
  top_named (grows m ds es word lone more names) = names (binding_word (first_text m.texts))

  top_more : {a b : Tree} → Changed A a b → Part Program 1 a → More (top_names a) (top_names b)
  top_more (here {a = a} {b = b} h) p = grown_top (grow a b h)
  top_more (below {k = k} {l = l} {fs = fs} {gs = gs} h) p = at k p.0
    where
      at : (k : AstType) → Apt (node k l fs) → More (top_names (node k l fs)) (top_names (node k l gs))
      at VariableDeclaration apt = absurd (declaration_still v xs A grow l h apt)
      at ImportDeclaration apt = absurd (import_still v xs A grow l h apt)
      at ExportNamedDeclaration apt = export_more l h (standing ExportNamedDeclaration l fs apt.0).shape (parts_of ExportNamedDeclaration l fs apt)
      at k apt = var_more v xs A grow (below {k = k} {l = l} h) apt

  top_hoist : {a b : Tree} → Changed A a b → Part Program 1 a → v ≡ true → Decl xs (top_names b)
  top_hoist (here {a = a} {b = b} h) p e = top_named (grow a b h)
  top_hoist (below {k = k} {l = l} {fs = fs} {gs = gs} h) p e = at k p.0
    where
      at : (k : AstType) → Apt (node k l fs) → Decl xs (top_names (node k l gs))
      at VariableDeclaration apt = absurd (declaration_still v xs A grow l h apt)
      at ImportDeclaration apt = absurd (import_still v xs A grow l h apt)
      at ExportNamedDeclaration apt = export_declares l h (standing ExportNamedDeclaration l fs apt.0).shape (parts_of ExportNamedDeclaration l fs apt)
      at k apt = var_declares v xs A grow (below {k = k} {l = l} h) apt e

  top_here : {a b : Tree} → Changed A a b → Part Program 1 a → is_plain (kind_of a) (word_of a) ≡ false → Decl xs (top_names b)
  top_here (here {a = a} {b = b} h) p n = top_named (grow a b h)
  top_here (below {k = k} {l = l} {fs = fs} {gs = gs} h) p n = at k p n
    where
      at : (k : AstType) → Part Program 1 (node k l fs) → is_plain k (first_text l.texts) ≡ false → Decl xs (top_names (node k l gs))
      at VariableDeclaration p n = absurd (declaration_still v xs A grow l h p.0)
      at ImportDeclaration p n = absurd (import_still v xs A grow l h p.0)
      at ExportNamedDeclaration p n = export_declares l h (standing ExportNamedDeclaration l fs p.0.0).shape (parts_of ExportNamedDeclaration l fs p.0)
      at k p n = absurd (let no : false ≡ true = may_stand Program 1 (node k l fs) p.1.0 n in cc no)

  pub tops_more : {ts us : Trees} → ChangedAmong A ts us → BelowTrees (Part Program 1) ts → More (top_in ts) (top_in us)
  tops_more (head_of {ts = ts} h) p = more_append xs (top_more h p.0) (same_names (among_names xs) (top_in ts))
  tops_more (tail_of {a = a} h) p = more_append xs (same_names (among_names xs) (top_names a)) (tops_more h p.1)

  -- THE PROGRAM
  program_long : (ds : Trees) (g h : Field) (fs : Fields) → shaped Program (many ds then (g then (h then fs))) ≡ true → ⊥
  program_long ds missing h fs e = absurd (cc e)
  program_long ds (one t) h fs e = absurd (cc e)
  program_long ds (many ts) h fs e = absurd (cc e)
  program_long ds (statements ts) h fs e = absurd (cc e)

  in_program : {fs gs : Fields} (l : Label) → ChangedIn A fs gs → shaped Program fs ≡ true → Below (λ i t. Part Program i t) fs → ProgramChanged A (node Program l fs) (node Program l gs)
  in_program l (first_of {f = f} h) s p = absurd (inner_by v xs A grow h (map_field (Part Program 0) (λ t. Apt t × (is_inner (kind_of t) ≡ true)) (λ t q. (q.0, (child_parts Program 0 t q.1.0).part)) f p.0))
  in_program l (later_of {f = missing} h) s p = absurd (cc s)
  in_program l (later_of {f = one t} h) s p = absurd (cc s)
  in_program l (later_of {f = statements ts} h) s p = absurd (cc s)
  in_program l (later_of {f = many ds} (first_of (one_of h))) s p = absurd (cc s)
  in_program l (later_of {f = many ds} (first_of (many_of h))) s p = absurd (cc s)
  in_program l (later_of {f = many ds} (first_of {fs = done} (statements_of {ts = ts} {us = us} h))) s p = record { label = l; directives = ds; body = ts; after = us; first = refl; second = refl; changed = h; parts = p.1.0 }
  in_program l (later_of {f = many ds} (first_of {fs = g then fs} (statements_of h))) s p = absurd (cc s)
  in_program l (later_of {f = many ds} (later_of {f = g} (first_of {f = h} {fs = fs} x))) s p = absurd (program_long ds g h fs s)
  in_program l (later_of {f = many ds} (later_of {f = g} (later_of {f = h} {fs = fs} x))) s p = absurd (program_long ds g h fs s)

  no_program : {a b : Tree} → Grows v xs a b → is_program (kind_of a) ≡ true → ⊥
  no_program (grows m ds es word lone more names) e = absurd (cc e)

  pub program_changed : {p q : Tree} → Changed A p q → Apt p → is_program (kind_of p) ≡ true → ProgramChanged A p q
  program_changed (here {a = a} {b = b} h) apt e = absurd (no_program (grow a b h) e)
  program_changed (below {k = Program} {l = l} {fs = fs} h) apt e = in_program l h (standing Program l fs apt.0).shape (parts_of Program l fs apt)
  program_changed (below h) apt e = absurd (cc e)

  module _ (bad : Level → Text → Bool) (R : List Declared → Take → Tree → Tree → Type 0) (row : (D : List Declared) (t : Take) (a b : Tree) → A a b → Apt a → avoids bad t a ≡ true → Decl xs D → R D t a b) where
    pub list_grown_at_top : {ts us : Trees} → ChangedAmong A ts us → (D : List Declared) → BelowTrees (Part Program 1) ts → avoids_trees bad body_needs ts ≡ true → (Decl xs (top_in us) → Decl xs D) → GrownTrees bad (among_names xs) R D body_needs ts us
    list_grown_at_top (head_of {a = a} {b = b} {ts = ts} h) D p av put =
        let q = and_parts (avoids bad body_needs a) (avoids_trees bad body_needs ts) av in
        grown_before (grown v xs A grow bad R row h D body_needs p.0.0 (child_parts Program 1 a p.0.1.0).program q.0 (λ e. put (in_left xs (top_names b) (top_in ts) (top_hoist h p.0 e))) (λ n. put (in_left xs (top_names b) (top_in ts) (top_here h p.0 n))))
        (selves_grown bad (among_names xs) R ts D body_needs q.1)
    list_grown_at_top (tail_of {a = a} {ts = ts} {us = us} h) D p av put =
        let q = and_parts (avoids bad body_needs a) (avoids_trees bad body_needs ts) av in
        grown_before (self_grown bad (among_names xs) R a D body_needs q.0) (list_grown_at_top h D p.1 q.1 (λ e. put (in_right xs (top_names a) (top_in us) e)))
