-- Trees that are the same but for one declaration, which declares fresh names more, are the same but for scopes that grow.
use Rattle.std.proofs.Common.{◌≡◌, ℕ, zero, suc, refl, ◌∙◌, List, ◌++◌}
use Rattle.std.specs.Prelude.{Bool, true, false, not, ◌&&◌}
use Rattle.std.proofs.lemmas.Bool.{and_parts}
use Rattle.es_tree.specs.Scopes.{Declared}
use Rattle.es_tree.specs.Tree.{Tree, node, Label, Fields, done, ◌then◌, Field, missing, one, many, statements, Trees, ◌before◌, kind_of}
use Rattle.es_tree.specs.Words.{Text}
use Rattle.es_tree.specs.declared.ast_type.AstType.{AstType}
use Rattle.es_tree.specs.declared.ast_type.AstType.TheVariants.{ArrayPattern, AssignmentPattern, BlockStatement, CatchClause, ExportNamedDeclaration, ForInStatement, ForOfStatement, ForStatement, Identifier, ImportDeclaration, ImportDefaultSpecifier, ImportNamespaceSpecifier, ImportSpecifier, LabeledStatement, ObjectPattern, PatternProperty, Program, RestElement, SwitchCase, SwitchStatement, VariableDeclaration}
use Rattle.es_runs.specs.Alike.{Level, is_bad}
use Rattle.es_statement_runs.specs.BareVars.{names_around}
use Rattle.es_statement_runs.specs.Kinds.{label_in}
use Rattle.es_statement_runs.specs.Laws.{among_names}
use Rattle.es_statement_runs.specs.Names.{cases_names, lexical_in, lexical_names, names_of_all, own_names, own_use}
use Rattle.es_statement_runs.specs.Places.{Take, all_good, avoids, avoids_field, avoids_fields, avoids_trees, more_taken, takes_of, value_taken}
use Rattle.es_statement_steps.proofs.Below.{Below, BelowField, BelowTrees, map_trees}
use Rattle.es_statement_steps.proofs.Stands.{child_parts, child_stands, is_case, is_declaration, is_import_item, is_inner, is_pattern, is_plain, is_program, shaped, standing, takes, word_of}
use Rattle.es_split_runs.specs.Growing.{Grown, GrownField, GrownFields, GrownTrees}
use Rattle.es_split_runs.specs.Growing.Grown.{at_place, in_block, in_for, in_node, in_switch}
use Rattle.es_split_runs.specs.Growing.GrownField.{grown_many, grown_missing, grown_one, grown_statements}
use Rattle.es_split_runs.specs.Growing.GrownFields.{grown_done, grown_then}
use Rattle.es_split_runs.specs.Growing.GrownTrees.{grown_before}
use Rattle.es_split_runs.proofs.SelfGrown.{self_grown, selves_grown}
use Rattle.es_rest_runs.specs.Changing.{Changed, ChangedAmong, ChangedBy, ChangedIn}
use Rattle.es_rest_runs.specs.Changing.Changed.{below, here}
use Rattle.es_rest_runs.specs.Changing.ChangedAmong.{head_of, tail_of}
use Rattle.es_rest_runs.specs.Changing.ChangedBy.{many_of, one_of, statements_of}
use Rattle.es_rest_runs.specs.Changing.ChangedIn.{first_of, later_of}
use Rattle.es_rest_runs.specs.Growth.{Grows}
use Rattle.es_rest_runs.specs.Growth.Grows.{grows}
use Rattle.es_rest_runs.specs.Tests.{lone_head, sized}
use Rattle.es_rest_runs.proofs.GrownNames.{Apt, Cased, Decl, Part, case_kind, cases_more, cases_use_same, declaration_still, headless, import_still, in_left, in_right, inner_still, item_in, lexical_declares, lexical_more, lexical_more_in, parts_of, sized_so, using_same, using_same_in}

not_both : (b : Bool) → b ≡ true → b ≡ false → ⊥
not_both true e f = absurd (cc f)
not_both false e f = absurd (cc e)

-- what isn't plain stands where it may
pub may_stand : (k : AstType) (i : ℕ) (t : Tree) → child_stands k i t ≡ true → is_plain (kind_of t) (word_of t) ≡ false → takes k i (kind_of t) ≡ true
may_stand k i t e n = at (takes k i (kind_of t)) refl
  where
    at : (b : Bool) → takes k i (kind_of t) ≡ b → b ≡ true
    at true g = refl
    at false g = absurd (not_both (is_plain (kind_of t) (word_of t)) ((child_parts k i t e).plain g) n)

part-program : (k : AstType) (i : ℕ) (t : Tree) → Part k i t → is_program (kind_of t) ≡ false
part-program k i t p = (child_parts k i t p.1.0).program

module _ (v : Bool) (xs : List Text) (A : Tree → Tree → Type 0) (grow : (a b : Tree) → A a b → Grows v xs a b) (bad : Level → Text → Bool) (R : List Declared → Take → Tree → Tree → Type 0)
    (row : (D : List Declared) (t : Take) (a b : Tree) → A a b → Apt a → avoids bad t a ≡ true → Decl xs D → R D t a b) where
  abbrev G : List Declared → Take → Tree → Tree → Type 0
  G = Grown bad (among_names xs) R

  abbrev pub GT : List Declared → Take → Trees → Trees → Type 0
  GT = GrownTrees bad (among_names xs) R

  abbrev GF : List Declared → Take → Field → Field → Type 0
  GF = GrownField bad (among_names xs) R

  abbrev GFs : (ℕ → List Declared) → (ℕ → Take) → Fields → Fields → Type 0
  GFs = GrownFields bad (among_names xs) R

  -- what stays
  field_self : (f : Field) (D : List Declared) (t : Take) → avoids_field bad t f ≡ true → GF D t f f
  field_self missing D t h = grown_missing
  field_self (one a) D t h = grown_one (self_grown bad (among_names xs) R a D t h)
  field_self (many ts) D t h = grown_many (selves_grown bad (among_names xs) R ts D t h)
  field_self (statements ts) D t h = grown_statements (selves_grown bad (among_names xs) R ts D t h)

  fields_self : (fs : Fields) (d : ℕ → List Declared) (c : ℕ → Take) → avoids_fields bad c fs ≡ true → GFs d c fs fs
  fields_self done d c h = grown_done
  fields_self (f then fs) d c h = let p = and_parts (avoids_field bad (c zero) f) (avoids_fields bad (λ i. c (suc i)) fs) h in grown_then (field_self f (d zero) (c zero) p.0) (fields_self fs (λ i. d (suc i)) (λ i. c (suc i)) p.1)

  -- where the declaration stands the names are declared
  decl_here : {a b : Tree} → Grows v xs a b → (D : List Declared) → (v ≡ true → Decl xs D) → (is_plain (kind_of a) (word_of a) ≡ false → Decl xs D) → Decl xs D
  decl_here (grows m ds es word lone more names) D by_var else_so = at v refl
    where
      at : (b : Bool) → v ≡ b → Decl xs D
      at true e = by_var e
      at false e = else_so (word ∙ e)

  -- what a node that isn't bad avoids
  record Clear (k : AstType) (l : Label) (fs : Fields) (t : Take) : Type 0 where
    pub fine : is_bad bad t.need.level k l.texts ≡ false
    pub good : all_good bad (names_of_all (own_names k fs)) ≡ true
    pub fields : avoids_fields bad (takes_of t k l.texts l.flags) fs ≡ true

  not_so : (b : Bool) → not b ≡ true → b ≡ false
  not_so true e = absurd (cc e)
  not_so false e = refl

  clear : (k : AstType) (l : Label) (fs : Fields) (t : Take) → avoids bad t (node k l fs) ≡ true → Clear k l fs t
  clear k l fs t h =
      let p = and_parts (not (is_bad bad t.need.level k l.texts)) (all_good bad (names_of_all (own_names k fs)) && avoids_fields bad (takes_of t k l.texts l.flags) fs) h in
      let q = and_parts (all_good bad (names_of_all (own_names k fs))) (avoids_fields bad (takes_of t k l.texts l.flags) fs) p.1 in
      record { fine = not_so (is_bad bad t.need.level k l.texts) p.0; good = q.0; fields = q.1 }

  -- names, uses and labels stay where no list and no head is that declares
  label_kept : {a b : Tree} → Changed A a b → (fs : Fields) → label_in LabeledStatement (one b then fs) ≡ label_in LabeledStatement (one a then fs)
  label_kept (here {a = a} {b = b} h) fs = at (grow a b h)
    where
      at : {a b : Tree} → Grows v xs a b → label_in LabeledStatement (one b then fs) ≡ label_in LabeledStatement (one a then fs)
      at (grows m ds es word lone more names) = refl
  label_kept (below h) fs = refl

  label_same : {fs gs : Fields} (k : AstType) → ChangedIn A fs gs → label_in k gs ≡ label_in k fs
  label_same LabeledStatement (first_of {fs = fs} (one_of h)) = label_kept h fs
  label_same LabeledStatement (first_of (many_of h)) = refl
  label_same LabeledStatement (first_of (statements_of h)) = refl
  label_same LabeledStatement (later_of {f = missing} h) = refl
  label_same LabeledStatement (later_of {f = one (node k l fs)} h) = refl
  label_same LabeledStatement (later_of {f = many ts} h) = refl
  label_same LabeledStatement (later_of {f = statements ts} h) = refl
  label_same _ h = refl

  -- of a loop by for-in or for-of the head stays
  lexical_same : {a b : Tree} → Changed A a b → Apt a → lone_head a ≡ true → lexical_names b ≡ lexical_names a
  lexical_same (here {a = a} {b = b} h) apt e = absurd (headless v xs A grow (here h) apt e (kind (grow a b h)))
    where
      kind : {a b : Tree} → Grows v xs a b → is_declaration (kind_of a) ≡ true
      kind (grows m ds es word lone more names) = refl
  lexical_same (below {k = k} {l = l} {fs = fs} {gs = gs} h) apt e = at k apt
    where
      at : (k : AstType) → Apt (node k l fs) → lexical_names (node k l gs) ≡ lexical_names (node k l fs)
      at VariableDeclaration apt = absurd (declaration_still v xs A grow l h apt)
      at _ apt = refl

  -- no node of an import, no field too many
  item_gone : {fs gs : Fields} (k : AstType) → is_import_item k ≡ true → (l : Label) → ChangedIn A fs gs → Apt (node k l fs) → ⊥
  item_gone {fs = fs} k e l h apt = item_in v xs A grow k e h (standing k l fs apt.0).shape (parts_of k l fs apt)

  block_longer : (f g : Field) (fs : Fields) → sized BlockStatement (f then (g then fs)) ≡ true → ⊥
  block_longer missing g fs e = absurd (cc e)
  block_longer (one t) g fs e = absurd (cc e)
  block_longer (many ts) g fs e = absurd (cc e)
  block_longer (statements ts) g fs e = absurd (cc e)

  switch_longer : (a : Tree) (g h : Field) (fs : Fields) → sized SwitchStatement (one a then (g then (h then fs))) ≡ true → ⊥
  switch_longer a missing h fs e = absurd (cc e)
  switch_longer a (one t) h fs e = absurd (cc e)
  switch_longer a (many ts) h fs e = absurd (cc e)
  switch_longer a (statements ts) h fs e = absurd (cc e)

  for_names : (f : Field) (fs gs : Fields) → own_names ForStatement (f then gs) ≡ own_names ForStatement (f then fs)
  for_names missing fs gs = refl
  for_names (one t) fs gs = refl
  for_names (many ts) fs gs = refl
  for_names (statements ts) fs gs = refl

  for_use : (f : Field) (fs gs : Fields) → own_use ForStatement (f then gs) ≡ own_use ForStatement (f then fs)
  for_use missing fs gs = refl
  for_use (one t) fs gs = refl
  for_use (many ts) fs gs = refl
  for_use (statements ts) fs gs = refl

  abbrev is_loop : AstType → Bool
  is_loop ForInStatement = true
  is_loop ForOfStatement = true
  is_loop k = false

  in_names : {fs gs : Fields} → ChangedIn A fs gs → Below (λ i t. Part ForInStatement i t) fs → own_names ForInStatement gs ≡ own_names ForInStatement fs
  in_names (first_of (one_of h)) p = lexical_same h p.0.0 p.0.1.1
  in_names (first_of (many_of h)) p = refl
  in_names (first_of (statements_of h)) p = refl
  in_names (later_of {f = missing} h) p = refl
  in_names (later_of {f = one t} h) p = refl
  in_names (later_of {f = many ts} h) p = refl
  in_names (later_of {f = statements ts} h) p = refl

  of_names : {fs gs : Fields} → ChangedIn A fs gs → Below (λ i t. Part ForOfStatement i t) fs → own_names ForOfStatement gs ≡ own_names ForOfStatement fs
  of_names (first_of (one_of h)) p = lexical_same h p.0.0 p.0.1.1
  of_names (first_of (many_of h)) p = refl
  of_names (first_of (statements_of h)) p = refl
  of_names (later_of {f = missing} h) p = refl
  of_names (later_of {f = one t} h) p = refl
  of_names (later_of {f = many ts} h) p = refl
  of_names (later_of {f = statements ts} h) p = refl

  of_use : {fs gs : Fields} → ChangedIn A fs gs → own_use ForOfStatement gs ≡ own_use ForOfStatement fs
  of_use (first_of (one_of h)) = using_same v xs A grow h
  of_use (first_of (many_of h)) = refl
  of_use (first_of (statements_of h)) = refl
  of_use (later_of {f = missing} h) = refl
  of_use (later_of {f = one t} h) = refl
  of_use (later_of {f = many ts} h) = refl
  of_use (later_of {f = statements ts} h) = refl

  in_head : (own D : List Declared) (i : ℕ) (a b : Tree) → Changed A a b → Part ForInStatement i a → is_plain (kind_of a) (word_of a) ≡ false → Decl xs (own ++ D)
  in_head own D zero a b h part n = absurd (headless v xs A grow h part.0 part.1.1 (may_stand ForInStatement 0 a part.1.0 n))
  in_head own D (suc i) a b h part n = absurd (let no : false ≡ true = may_stand ForInStatement (suc i) a part.1.0 n in cc no)

  of_head : (own D : List Declared) (i : ℕ) (a b : Tree) → Changed A a b → Part ForOfStatement i a → is_plain (kind_of a) (word_of a) ≡ false → Decl xs (own ++ D)
  of_head own D zero a b h part n = absurd (headless v xs A grow h part.0 part.1.1 (may_stand ForOfStatement 0 a part.1.0 n))
  of_head own D (suc i) a b h part n = absurd (let no : false ≡ true = may_stand ForOfStatement (suc i) a part.1.0 n in cc no)

  pattern_inner : (j : AstType) → is_pattern j ≡ true → is_inner j ≡ true
  pattern_inner Identifier e = refl
  pattern_inner ObjectPattern e = refl
  pattern_inner PatternProperty e = refl
  pattern_inner ArrayPattern e = refl
  pattern_inner AssignmentPattern e = refl
  pattern_inner RestElement e = refl
  pattern_inner _ e = absurd (cc e)

  catch_names : {fs gs : Fields} → ChangedIn A fs gs → shaped CatchClause fs ≡ true → Below (λ i t. Part CatchClause i t) fs → own_names CatchClause gs ≡ own_names CatchClause fs
  catch_names (first_of (one_of {a = a} h)) s p = absurd (inner_still v xs A grow h p.0.0 (pattern_inner (kind_of a) ((child_parts CatchClause 0 a p.0.1.0).pattern refl)))
  catch_names (first_of (many_of h)) s p = absurd (cc s)
  catch_names (first_of (statements_of h)) s p = absurd (cc s)
  catch_names (later_of {f = missing} h) s p = refl
  catch_names (later_of {f = one t} h) s p = refl
  catch_names (later_of {f = many ts} h) s p = refl
  catch_names (later_of {f = statements ts} h) s p = refl

  after : (a : Tree) (es : Trees) → Decl xs (cases_names es) → Decl xs (cases_names (a before es))
  after (node k l done) es g = g
  after (node k l (f then done)) es g = g
  after (node k l (f then (missing then fs))) es g = g
  after (node k l (f then (one t then fs))) es g = g
  after (node k l (f then (many ts then fs))) es g = g
  after (node k l (f then (statements ts then fs))) es g = in_right xs (lexical_in ts) (cases_names es) g

  -- THE WALK
  mutual
    pub grown : {a b : Tree} → Changed A a b → (D : List Declared) (t : Take) → Apt a → is_program (kind_of a) ≡ false → avoids bad t a ≡ true → (v ≡ true → Decl xs D) → (is_plain (kind_of a) (word_of a) ≡ false → Decl xs D) → G D t a b
    grown (here {a = a} {b = b} h) D t apt np av dv dp = at_place (row D t a b h apt av (decl_here (grow a b h) D dv dp))
    grown (below {k = VariableDeclaration} {l = l} h) D t apt np av dv dp = absurd (declaration_still v xs A grow l h apt)
    grown (below {k = ImportDeclaration} {l = l} h) D t apt np av dv dp = absurd (import_still v xs A grow l h apt)
    grown (below {k = BlockStatement} {l = l} h) D t apt np av dv dp = block_grown l h D t apt av dv
    grown (below {k = ForStatement} {l = l} h) D t apt np av dv dp = for_grown l h D t apt av dv
    grown (below {k = SwitchStatement} {l = l} h) D t apt np av dv dp = switch_grown l h D t apt av dv
    grown (below {k = ImportSpecifier} {l = l} h) D t apt np av dv dp = absurd (item_gone ImportSpecifier refl l h apt)
    grown (below {k = ImportDefaultSpecifier} {l = l} h) D t apt np av dv dp = absurd (item_gone ImportDefaultSpecifier refl l h apt)
    grown (below {k = ImportNamespaceSpecifier} {l = l} h) D t apt np av dv dp = absurd (item_gone ImportNamespaceSpecifier refl l h apt)
    grown (below {k = Program} {l = l} h) D t apt np av dv dp = absurd (cc np)
    grown (below {k = ForInStatement} {l = l} {fs = fs} h) D t apt np av dv dp =
        let c = clear ForInStatement l fs t av in
        let p = parts_of ForInStatement l fs apt in
        let own = own_names ForInStatement fs in
        in_node c.fine refl refl (in_names h p) refl refl c.good (fields_grown ForInStatement (λ i. i) h (λ i. own ++ D) (takes_of t ForInStatement l.texts l.flags) p c.fields (λ i e. in_right xs own D (dv e)) (in_head own D))
    grown (below {k = ForOfStatement} {l = l} {fs = fs} h) D t apt np av dv dp =
        let c = clear ForOfStatement l fs t av in
        let p = parts_of ForOfStatement l fs apt in
        let own = own_names ForOfStatement fs in
        in_node c.fine refl refl (of_names h p) (of_use h) refl c.good (fields_grown ForOfStatement (λ i. i) h (λ i. own ++ D) (takes_of t ForOfStatement l.texts l.flags) p c.fields (λ i e. in_right xs own D (dv e)) (of_head own D))
    grown (below {k = CatchClause} {l = l} {fs = fs} h) D t apt np av dv dp =
        let c = clear CatchClause l fs t av in
        let p = parts_of CatchClause l fs apt in
        let own = own_names CatchClause fs in
        in_node c.fine refl refl (catch_names h (standing CatchClause l fs apt.0).shape p) refl refl c.good (fields_grown CatchClause (λ i. i) h (λ i. own ++ D) (takes_of t CatchClause l.texts l.flags) p c.fields (λ i e. in_right xs own D (dv e)) (λ i a b x part n. absurd (let no : false ≡ true = may_stand CatchClause i a part.1.0 n in cc no)))
    grown (below {k = SwitchCase} {l = l} {fs = fs} h) D t apt np av dv dp =
        let c = clear SwitchCase l fs t av in
        in_node c.fine refl refl refl refl refl c.good (fields_grown SwitchCase (λ i. i) h (λ i. D) (takes_of t SwitchCase l.texts l.flags) (parts_of SwitchCase l fs apt) c.fields (λ i. dv) (λ i a b x part n. dp refl))
    grown (below {k = ExportNamedDeclaration} {l = l} {fs = fs} h) D t apt np av dv dp =
        let c = clear ExportNamedDeclaration l fs t av in
        in_node c.fine refl refl refl refl refl c.good (fields_grown ExportNamedDeclaration (λ i. i) h (λ i. D) (takes_of t ExportNamedDeclaration l.texts l.flags) (parts_of ExportNamedDeclaration l fs apt) c.fields (λ i. dv) (λ i a b x part n. dp refl))
    grown (below {k = k} {l = l} {fs = fs} h) D t apt np av dv dp =
        let c = clear k l fs t av in
        in_node c.fine refl refl refl refl (label_same k h) c.good (fields_grown k (λ i. i) h (names_around k (own_names k fs) D) (takes_of t k l.texts l.flags) (parts_of k l fs apt) c.fields (λ i. dv) (λ i a b x part n. absurd (let no : false ≡ true = may_stand k i a part.1.0 n in cc no)))

    -- fields of a node of this kind, from one on
    fields_grown : {fs gs : Fields} (k : AstType) (at : ℕ → ℕ) → ChangedIn A fs gs → (d : ℕ → List Declared) (c : ℕ → Take) → Below (λ i t. Part k (at i) t) fs → avoids_fields bad c fs ≡ true → ((i : ℕ) → v ≡ true → Decl xs (d i)) →
        ((i : ℕ) (a b : Tree) → Changed A a b → Part k (at i) a → is_plain (kind_of a) (word_of a) ≡ false → Decl xs (d i)) → GFs d c fs gs
    fields_grown k at (first_of {f = f} {fs = fs} h) d c p av dv direct =
        let q = and_parts (avoids_field bad (c zero) f) (avoids_fields bad (λ i. c (suc i)) fs) av in
        grown_then (field_grown k (at zero) h (d zero) (c zero) p.0 q.0 (dv zero) (direct zero)) (fields_self fs (λ i. d (suc i)) (λ i. c (suc i)) q.1)
    fields_grown k at (later_of {f = f} {fs = fs} h) d c p av dv direct =
        let q = and_parts (avoids_field bad (c zero) f) (avoids_fields bad (λ i. c (suc i)) fs) av in
        grown_then (field_self f (d zero) (c zero) q.0) (fields_grown k (λ i. at (suc i)) h (λ i. d (suc i)) (λ i. c (suc i)) p.1 q.1 (λ i. dv (suc i)) (λ i. direct (suc i)))

    field_grown : {f g : Field} (k : AstType) (i : ℕ) → ChangedBy A f g → (D : List Declared) (t : Take) → BelowField (Part k i) f → avoids_field bad t f ≡ true → (v ≡ true → Decl xs D) →
        ((a b : Tree) → Changed A a b → Part k i a → is_plain (kind_of a) (word_of a) ≡ false → Decl xs D) → GF D t f g
    field_grown k i (one_of {a = a} {b = b} h) D t p av dv direct = grown_one (grown h D t p.0 (part-program k i a p) av dv (direct a b h p))
    field_grown k i (many_of h) D t p av dv direct = grown_many (trees_grown k i h D t p av dv direct)
    field_grown k i (statements_of h) D t p av dv direct = grown_statements (trees_grown k i h D t p av dv direct)

    trees_grown : {ts us : Trees} (k : AstType) (i : ℕ) → ChangedAmong A ts us → (D : List Declared) (t : Take) → BelowTrees (Part k i) ts → avoids_trees bad t ts ≡ true → (v ≡ true → Decl xs D) →
        ((a b : Tree) → Changed A a b → Part k i a → is_plain (kind_of a) (word_of a) ≡ false → Decl xs D) → GT D t ts us
    trees_grown k i (head_of {a = a} {b = b} {ts = ts} h) D t p av dv direct =
        let q = and_parts (avoids bad t a) (avoids_trees bad t ts) av in
        grown_before (grown h D t p.0.0 (part-program k i a p.0) q.0 dv (direct a b h p.0)) (selves_grown bad (among_names xs) R ts D t q.1)
    trees_grown k i (tail_of {a = a} {ts = ts} h) D t p av dv direct =
        let q = and_parts (avoids bad t a) (avoids_trees bad t ts) av in
        grown_before (self_grown bad (among_names xs) R a D t q.0) (trees_grown k i h D t p.1 q.1 dv direct)

    -- a list whose names are declared
    list_grown : {ts us : Trees} (k : AstType) (i : ℕ) → ((j : AstType) → takes k i j ≡ true → is_declaration j ≡ true) → ChangedAmong A ts us → (D : List Declared) (t : Take) → BelowTrees (Part k i) ts → avoids_trees bad t ts ≡ true → (v ≡ true → Decl xs D) →
        (Decl xs (lexical_in us) → Decl xs D) → GT D t ts us
    list_grown k i may (head_of {a = a} {b = b} {ts = ts} h) D t p av dv put =
        let q = and_parts (avoids bad t a) (avoids_trees bad t ts) av in
        grown_before (grown h D t p.0.0 (part-program k i a p.0) q.0 dv (λ n. put (in_left xs (lexical_names b) (lexical_in ts) (lexical_declares v xs A grow h p.0.0 (may (kind_of a) (may_stand k i a p.0.1.0 n)) n)))) (selves_grown bad (among_names xs) R ts D t q.1)
    list_grown k i may (tail_of {a = a} {ts = ts} {us = us} h) D t p av dv put =
        let q = and_parts (avoids bad t a) (avoids_trees bad t ts) av in
        grown_before (self_grown bad (among_names xs) R a D t q.0) (list_grown k i may h D t p.1 q.1 dv (λ e. put (in_right xs (lexical_names a) (lexical_in us) e)))

    -- the cases of a `switch`
    cases_grown : {cs es : Trees} → ChangedAmong A cs es → (D : List Declared) (t : Take) → BelowTrees (λ c. Part SwitchStatement 1 c × (is_case (kind_of c) ≡ true)) cs → avoids_trees bad t cs ≡ true → (v ≡ true → Decl xs D) → (Decl xs (cases_names es) → Decl xs D) → GT D t cs es
    cases_grown (head_of {ts = cs} (here {a = a} {b = b} h)) D t p av dv put = absurd (case_kind v xs A grow (grow a b h) p.0.1)
    cases_grown (head_of {ts = cs} (below {k = SwitchCase} {l = l} {fs = fs} h)) D t p av dv put =
        let q = and_parts (avoids bad t (node SwitchCase l fs)) (avoids_trees bad t cs) av in
        let c = clear SwitchCase l fs t q.0 in
        grown_before (in_node c.fine refl refl refl refl refl c.good (case_grown l h D (takes_of t SwitchCase l.texts l.flags) cs (parts_of SwitchCase l fs p.0.0.0) (standing SwitchCase l fs p.0.0.0.0).shape c.fields dv put)) (selves_grown bad (among_names xs) R cs D t q.1)
    cases_grown (head_of {ts = cs} (below h)) D t p av dv put = absurd (let e : false ≡ true = p.0.1 in cc e)
    cases_grown (tail_of {a = a} {ts = cs} {us = es} h) D t p av dv put =
        let q = and_parts (avoids bad t a) (avoids_trees bad t cs) av in
        grown_before (self_grown bad (among_names xs) R a D t q.0) (cases_grown h D t p.1 q.1 dv (λ e. put (after a es e)))

    case_grown : {fs gs : Fields} (l : Label) → ChangedIn A fs gs → (D : List Declared) (c : ℕ → Take) (cs : Trees) → Below (λ i t. Part SwitchCase i t) fs → shaped SwitchCase fs ≡ true → avoids_fields bad c fs ≡ true → (v ≡ true → Decl xs D) →
        (Decl xs (cases_names (node SwitchCase l gs before cs)) → Decl xs D) → GFs (λ i. D) c fs gs
    case_grown l (first_of {f = f} {fs = fs} h) D c cs p shape av dv put =
        let q = and_parts (avoids_field bad (c zero) f) (avoids_fields bad (λ i. c (suc i)) fs) av in
        grown_then (field_grown SwitchCase 0 h D (c zero) p.0 q.0 dv (λ a b g part n. absurd (let no : false ≡ true = may_stand SwitchCase 0 a part.1.0 n in cc no))) (fields_self fs (λ i. D) (λ i. c (suc i)) q.1)
    case_grown l (later_of {f = f} (first_of (one_of h))) D c cs p shape av dv put = absurd (cc shape)
    case_grown l (later_of {f = f} (first_of (many_of h))) D c cs p shape av dv put = absurd (cc shape)
    case_grown l (later_of {f = f} (first_of {fs = fs} (statements_of {ts = ts} {us = us} h))) D c cs p shape av dv put =
        let q = and_parts (avoids_field bad (c zero) f) (avoids_fields bad (λ i. c (suc i)) (statements ts then fs)) av in
        let r = and_parts (avoids_trees bad (c 1) ts) (avoids_fields bad (λ i. c (suc (suc i))) fs) q.1 in
        grown_then (field_self f D (c zero) q.0) (grown_then (grown_statements (list_grown SwitchCase 1 (λ j e. e) h D (c 1) p.1.0 r.0 dv (λ e. put (in_left xs (lexical_in us) (cases_names cs) e)))) (fields_self fs (λ i. D) (λ i. c (suc (suc i))) r.1))
    case_grown l (later_of {f = f} (later_of {f = g} {fs = fs} h)) D c cs p shape av dv put =
        let q = and_parts (avoids_field bad (c zero) f) (avoids_fields bad (λ i. c (suc i)) (g then fs)) av in
        let r = and_parts (avoids_field bad (c 1) g) (avoids_fields bad (λ i. c (suc (suc i))) fs) q.1 in
        grown_then (field_self f D (c zero) q.0) (grown_then (field_self g D (c 1) r.0) (fields_grown SwitchCase (λ i. suc (suc i)) h (λ i. D) (λ i. c (suc (suc i))) p.1.1 r.1 (λ i. dv) (λ i a b x part n. absurd (let no : false ≡ true = may_stand SwitchCase (suc (suc i)) a part.1.0 n in cc no))))

    block_grown : {fs gs : Fields} (l : Label) → ChangedIn A fs gs → (D : List Declared) (t : Take) → Apt (node BlockStatement l fs) → avoids bad t (node BlockStatement l fs) ≡ true → (v ≡ true → Decl xs D) → G D t (node BlockStatement l fs) (node BlockStatement l gs)
    block_grown l (first_of {fs = done} (statements_of {ts = ts} {us = us} h)) D t apt av dv =
        let c = clear BlockStatement l (statements ts then done) t av in
        let p = (parts_of BlockStatement l (statements ts then done) apt).0 in
        in_block (lexical_more_in v xs A grow h (map_trees (Part BlockStatement 0) Apt (λ t p. p.0) ts p)) (using_same_in v xs A grow h) c.good
        (list_grown BlockStatement 0 (λ j e. e) h (lexical_in us ++ D) value_taken p (and_parts (avoids_trees bad value_taken ts) true c.fields).0 (λ e. in_right xs (lexical_in us) D (dv e)) (λ e. in_left xs (lexical_in us) D e))
    block_grown l (first_of {fs = g then fs} (statements_of {ts = ts} h)) D t apt av dv = absurd (let s : false ≡ true = sized_so BlockStatement l (statements ts then (g then fs)) apt in cc s)
    block_grown l (first_of {fs = fs} (one_of {a = a} h)) D t apt av dv = absurd (let s : false ≡ true = sized_so BlockStatement l (one a then fs) apt in cc s)
    block_grown l (first_of {fs = fs} (many_of {ts = ts} h)) D t apt av dv = absurd (let s : false ≡ true = sized_so BlockStatement l (many ts then fs) apt in cc s)
    block_grown l (later_of {f = f} (first_of {f = g} {fs = fs} h)) D t apt av dv = absurd (block_longer f g fs (sized_so BlockStatement l (f then (g then fs)) apt))
    block_grown l (later_of {f = f} (later_of {f = g} {fs = fs} h)) D t apt av dv = absurd (block_longer f g fs (sized_so BlockStatement l (f then (g then fs)) apt))

    for_grown : {fs gs : Fields} (l : Label) → ChangedIn A fs gs → (D : List Declared) (t : Take) → Apt (node ForStatement l fs) → avoids bad t (node ForStatement l fs) ≡ true → (v ≡ true → Decl xs D) → G D t (node ForStatement l fs) (node ForStatement l gs)
    for_grown l (first_of {fs = done} (one_of {a = a} x)) D t apt av dv = absurd (let s : false ≡ true = sized_so ForStatement l (one a then done) apt in cc s)
    for_grown l (first_of {fs = f then done} (one_of {a = a} x)) D t apt av dv = absurd (let s : false ≡ true = sized_so ForStatement l (one a then (f then done)) apt in cc s)
    for_grown l (first_of {fs = f then (g then done)} (one_of {a = a} x)) D t apt av dv = absurd (let s : false ≡ true = sized_so ForStatement l (one a then (f then (g then done))) apt in cc s)
    for_grown l (first_of {fs = f then (g then (h then (i then fs)))} (one_of {a = a} x)) D t apt av dv = absurd (let s : false ≡ true = sized_so ForStatement l (one a then (f then (g then (h then (i then fs))))) apt in cc s)
    for_grown l (first_of {fs = f then (g then (h then done))} (one_of {a = a} {b = b} x)) D t apt av dv =
        let all = one a then (f then (g then (h then done))) in
        let c = clear ForStatement l all t av in
        let p = (parts_of ForStatement l all apt).0 in
        let q = and_parts (avoids bad value_taken a) (avoids_fields bad (λ i. value_taken) (f then (g then (h then done)))) c.fields in
        let E = lexical_names b ++ D in
        in_for (lexical_more v xs A grow x p.0) (using_same v xs A grow x) c.good
        (grown_then (grown_one (grown x E value_taken p.0 (part-program ForStatement 0 a p) q.0 (λ e. in_right xs (lexical_names b) D (dv e)) (λ n. in_left xs (lexical_names b) D (lexical_declares v xs A grow x p.0 (may_stand ForStatement 0 a p.1.0 n) n))))
        (fields_self (f then (g then (h then done))) (λ i. E) (λ i. value_taken) q.1))
    for_grown l (first_of {fs = fs} (many_of {ts = ts} x)) D t apt av dv = absurd (let s : false ≡ true = (standing ForStatement l (many ts then fs) apt.0).shape in cc s)
    for_grown l (first_of {fs = fs} (statements_of {ts = ts} x)) D t apt av dv = absurd (let s : false ≡ true = (standing ForStatement l (statements ts then fs) apt.0).shape in cc s)
    for_grown l (later_of {f = f} {fs = fs} {gs = gs} x) D t apt av dv =
        let all = f then fs in
        let c = clear ForStatement l all t av in
        let p = parts_of ForStatement l all apt in
        let own = own_names ForStatement all in
        let q = and_parts (avoids_field bad value_taken f) (avoids_fields bad (λ i. value_taken) fs) c.fields in
        in_node c.fine refl refl (for_names f fs gs) (for_use f fs gs) refl c.good
        (grown_then (field_self f (own ++ D) value_taken q.0) (fields_grown ForStatement suc x (λ i. own ++ D) (λ i. value_taken) p.1 q.1 (λ i e. in_right xs own D (dv e)) (λ i a b y part n. absurd (let no : false ≡ true = may_stand ForStatement (suc i) a part.1.0 n in cc no))))

    switch_grown : {fs gs : Fields} (l : Label) → ChangedIn A fs gs → (D : List Declared) (t : Take) → Apt (node SwitchStatement l fs) → avoids bad t (node SwitchStatement l fs) ≡ true → (v ≡ true → Decl xs D) → G D t (node SwitchStatement l fs) (node SwitchStatement l gs)
    switch_grown l (first_of {fs = many cs then done} (one_of {a = a} x)) D t apt av dv =
        let all = one a then (many cs then done) in
        let c = clear SwitchStatement l all t av in
        let p = (parts_of SwitchStatement l all apt).0 in
        let q = and_parts (avoids bad value_taken a) (avoids_fields bad (λ i. more_taken) (many cs then done)) c.fields in
        in_node c.fine refl refl refl refl refl c.good
        (grown_then (grown_one (grown x D value_taken p.0 (part-program SwitchStatement 0 a p) q.0 dv (λ n. absurd (let no : false ≡ true = may_stand SwitchStatement 0 a p.1.0 n in cc no)))) (fields_self (many cs then done) (λ i. cases_names cs ++ D) (λ i. more_taken) q.1))
    switch_grown l (first_of {fs = done} (one_of {a = a} x)) D t apt av dv = absurd (let s : false ≡ true = sized_so SwitchStatement l (one a then done) apt in cc s)
    switch_grown l (first_of {fs = missing then fs} (one_of {a = a} x)) D t apt av dv = absurd (let s : false ≡ true = sized_so SwitchStatement l (one a then (missing then fs)) apt in cc s)
    switch_grown l (first_of {fs = one b then fs} (one_of {a = a} x)) D t apt av dv = absurd (let s : false ≡ true = sized_so SwitchStatement l (one a then (one b then fs)) apt in cc s)
    switch_grown l (first_of {fs = statements ts then fs} (one_of {a = a} x)) D t apt av dv = absurd (let s : false ≡ true = sized_so SwitchStatement l (one a then (statements ts then fs)) apt in cc s)
    switch_grown l (first_of {fs = many ts then (g then fs)} (one_of {a = a} x)) D t apt av dv = absurd (let s : false ≡ true = sized_so SwitchStatement l (one a then (many ts then (g then fs))) apt in cc s)
    switch_grown l (first_of {fs = fs} (many_of {ts = ts} x)) D t apt av dv = absurd (let s : false ≡ true = sized_so SwitchStatement l (many ts then fs) apt in cc s)
    switch_grown l (first_of {fs = fs} (statements_of {ts = ts} x)) D t apt av dv = absurd (let s : false ≡ true = sized_so SwitchStatement l (statements ts then fs) apt in cc s)
    switch_grown l (later_of {f = missing} {fs = fs} x) D t apt av dv = absurd (let s : false ≡ true = sized_so SwitchStatement l (missing then fs) apt in cc s)
    switch_grown l (later_of {f = many ts} {fs = fs} x) D t apt av dv = absurd (let s : false ≡ true = sized_so SwitchStatement l (many ts then fs) apt in cc s)
    switch_grown l (later_of {f = statements ts} {fs = fs} x) D t apt av dv = absurd (let s : false ≡ true = sized_so SwitchStatement l (statements ts then fs) apt in cc s)
    switch_grown l (later_of {f = one a} (first_of {fs = done} (many_of {ts = cs} {us = es} x))) D t apt av dv =
        let all = one a then (many cs then done) in
        let c = clear SwitchStatement l all t av in
        let p = map_trees (Part SwitchStatement 1) (λ c. Part SwitchStatement 1 c × (is_case (kind_of c) ≡ true)) (λ c p. (p, (child_parts SwitchStatement 1 c p.1.0).part)) cs (parts_of SwitchStatement l all apt).1.0 in
        let b = map_trees (λ c. Part SwitchStatement 1 c × (is_case (kind_of c) ≡ true)) Cased (λ c p. (p.0.0, p.1)) cs p in
        let q = and_parts (avoids bad value_taken a) (avoids_trees bad more_taken cs && true) c.fields in
        in_switch (cases_more v xs A grow x b) (cases_use_same v xs A grow x b) c.good (self_grown bad (among_names xs) R a D value_taken q.0)
        (cases_grown x (cases_names es ++ D) more_taken p (and_parts (avoids_trees bad more_taken cs) true q.1).0 (λ e. in_right xs (cases_names es) D (dv e)) (λ e. in_left xs (cases_names es) D e))
    switch_grown l (later_of {f = one a} (first_of {fs = g then fs} (many_of {ts = cs} x))) D t apt av dv = absurd (let s : false ≡ true = sized_so SwitchStatement l (one a then (many cs then (g then fs))) apt in cc s)
    switch_grown l (later_of {f = one a} (first_of {fs = fs} (one_of {a = b} x))) D t apt av dv = absurd (let s : false ≡ true = sized_so SwitchStatement l (one a then (one b then fs)) apt in cc s)
    switch_grown l (later_of {f = one a} (first_of {fs = fs} (statements_of {ts = ts} x))) D t apt av dv = absurd (let s : false ≡ true = sized_so SwitchStatement l (one a then (statements ts then fs)) apt in cc s)
    switch_grown l (later_of {f = one a} (later_of {f = g} (first_of {f = h} {fs = fs} x))) D t apt av dv = absurd (switch_longer a g h fs (sized_so SwitchStatement l (one a then (g then (h then fs))) apt))
    switch_grown l (later_of {f = one a} (later_of {f = g} (later_of {f = h} {fs = fs} x))) D t apt av dv = absurd (switch_longer a g h fs (sized_so SwitchStatement l (one a then (g then (h then fs))) apt))
