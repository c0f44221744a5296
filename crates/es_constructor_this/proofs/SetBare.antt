-- What a program becomes is told by kinds, texts and shapes, and the nodes made have no ids: as it is read it is the same whatever marks the names have that
-- are written.
use Rattle.std.proofs.Common.{◌≡◌, ◌∙◌, ℕ, zero, suc, refl, ap, sym}
use Rattle.std.specs.Prelude.{Bool, true, false, ◌&&◌, Option, Some, None, if◌then◌else◌}
use Rattle.es_tree.specs.Bare.{bare, bare_field, bare_fields, bare_label, bare_trees}
use Rattle.es_tree.specs.HasForm.{same_type}
use Rattle.es_tree.specs.Names.{first_text}
use Rattle.es_tree.specs.Tree.{Tree, node, Fields, done, ◌then◌, Field, missing, one, many, statements, Trees, empty, ◌before◌, label_of}
use Rattle.es_tree.specs.Words.{Text}
use Rattle.es_tree.specs.declared.ast_type.AstType.{AstType}
use Rattle.es_tree.specs.declared.ast_type.AstType.TheVariants.{FunctionBody, Identifier, ThisExpression, VariableDeclaration, VariableDeclarator}
use Rattle.es_super_calls.specs.Constructors.{is_body, standing_in}
use Rattle.es_super_calls.specs.declared.standing.ClassStanding.{ClassStanding}
use Rattle.es_super_calls.proofs.BareStandings.{standing-bare}
use Rattle.es_set_this.specs.ConstructorThis.{is_made_name, is_this, is_var, names_among, plain_name, set_this, this_name, up_to_super, with_this_set, without_value}
use Rattle.es_constructor_this.proofs.SuperBare.{among-bare, bare-twice, field-twice, fields-twice, trees-twice, up-bare, with-alike}
use Rattle.es_constructor_this.proofs.Written.{Writes, as_declared, as_word, tree-words, write_behind, write_here, write_in_body, write_statements, write_this, write_this_among, write_this_by, write_this_in}

module _ (made : Text → Bool) where
  -- THE NAME that is declared

  made-bare : (t : Tree) → is_made_name made (bare t) ≡ is_made_name made t
  made-bare (node Identifier l done) = refl
  made-bare t = refl

  this-bare : (t : Tree) → is_this (bare t) ≡ is_this t
  this-bare (node ThisExpression l done) = refl
  this-bare t = refl

  text-bare : (t : Tree) → first_text (label_of (bare t)).texts ≡ first_text (label_of t).texts
  text-bare (node k l fs) = refl

  name-bare : (d : Tree) → this_name made (bare d) ≡ this_name made d
  name-bare (node VariableDeclaration m (many (node VariableDeclarator k (one x then (one e then done)) before empty) then done)) = λ i. if is_var m.texts && made-bare x i && this-bare e i then Some (text-bare x i) else None
  name-bare d = refl

  value-bare : (d : Tree) → bare (without_value d) ≡ without_value (bare d)
  value-bare (node VariableDeclaration m (many (node VariableDeclarator k (f then (g then done)) before empty) then done)) = refl
  value-bare d = refl

  value-twice : (d : Tree) → bare (without_value d) ≡ bare (without_value (bare d))
  value-twice d = value-bare d ∙ ap without_value (sym (bare-twice d)) ∙ sym (value-bare (bare d))

  -- WHAT IS WRITTEN, where it is the name as it is read

  module _ (write : Writes) (is-word : (y : Text) (d : Tree) → bare (write y d) ≡ bare (plain_name y)) where
    behind-bare : (o : Option Text) (d : Tree) (ts : Trees) → bare_trees (write_behind write o d ts) ≡ bare_trees (write_behind as_word o (bare d) (bare_trees ts))
    behind-bare None d ts = λ i. sym (bare-twice d) i before sym (trees-twice ts) i
    behind-bare (Some y) d ts = at (names_among y ts) ∙ (λ i. bare_trees (if sym (among-bare y ts) i then bare d before bare_trees ts else without_value (bare d) before with_this_set (plain_name y) (up_to_super (plain_name y) (bare_trees ts))))
      where
        at : (c : Bool) → bare_trees (if c then d before ts else without_value d before with_this_set (write y d) (up_to_super (write y d) ts)) ≡ bare_trees (if c then bare d before bare_trees ts else without_value (bare d) before with_this_set (plain_name y) (up_to_super (plain_name y) (bare_trees ts)))
        at true = λ i. sym (bare-twice d) i before sym (trees-twice ts) i
        at false =
            let e = is-word y d in
            λ i. value-twice d i before with-alike (write y d) (plain_name y) e (up_to_super (write y d) ts) (up_to_super (plain_name y) (bare_trees ts)) (up-bare (write y d) (plain_name y) e ts) i

    statements-bare : (ts : Trees) → bare_trees (write_statements write made ts) ≡ bare_trees (write_statements as_word made (bare_trees ts))
    statements-bare empty = refl
    statements-bare (d before ts) = behind-bare (this_name made d) d ts ∙ (λ i. bare_trees (write_behind as_word (sym (name-bare d) i) (bare d) (bare_trees ts)))

    body-bare : (fs : Fields) → bare_fields (write_in_body write made fs) ≡ bare_fields (write_in_body as_word made (bare_fields fs))
    body-bare (f then (statements ts then done)) = λ i. sym (field-twice f) i then (statements (statements-bare ts i) then done)
    body-bare done = refl
    body-bare (f then done) = sym (fields-twice (f then done))
    body-bare (f then (missing then fs)) = sym (fields-twice (f then (missing then fs)))
    body-bare (f then (one t then fs)) = sym (fields-twice (f then (one t then fs)))
    body-bare (f then (many ts then fs)) = sym (fields-twice (f then (many ts then fs)))
    body-bare (f then (statements ts then (g then fs))) = sym (fields-twice (f then (statements ts then (g then fs))))

  module _ (write : Writes) (is-word : (y : Text) (d : Tree) → bare (write y d) ≡ bare (plain_name y)) where
    -- of fields that are bare the same
    body-alike : (fs gs : Fields) → bare_fields fs ≡ bare_fields gs → bare_fields (write_in_body write made fs) ≡ bare_fields (write_in_body as_word made gs)
    body-alike fs gs h = body-bare write is-word fs ∙ ap (λ (hs : Fields). bare_fields (write_in_body as_word made hs)) h ∙ sym (body-bare as_word (λ y d. refl) gs)

    here-alike : (s : ClassStanding) (k : AstType) (fs gs : Fields) → bare_fields fs ≡ bare_fields gs → bare_fields (write_here write made s k fs) ≡ bare_fields (write_here as_word made s k gs)
    here-alike s k fs gs h = at (is_body s && same_type k FunctionBody)
      where
        at : (b : Bool) → bare_fields (if b then write_in_body write made fs else fs) ≡ bare_fields (if b then write_in_body as_word made gs else gs)
        at true = body-alike fs gs h
        at false = h

    -- A TREE
    mutual
      pub tree-bare : (s : ClassStanding) (t : Tree) → bare (write_this write made s t) ≡ bare (write_this as_word made s (bare t))
      tree-bare s (node k l fs) =
          let c : ℕ → ClassStanding = standing_in s k l fs in
          let d : ℕ → ClassStanding = standing_in s k (bare_label l) (bare_fields fs) in
          let inner : bare_fields (write_this_in write made c fs) ≡ bare_fields (write_this_in as_word made d (bare_fields fs)) = fields-bare c fs ∙ (λ i. bare_fields (write_this_in as_word made (λ n. sym (standing-bare s k l fs n) i) (bare_fields fs))) in
          ap (λ (gs : Fields). node k (bare_label l) gs) (here-alike s k (write_this_in write made c fs) (write_this_in as_word made d (bare_fields fs)) inner)

      fields-bare : (c : ℕ → ClassStanding) (fs : Fields) → bare_fields (write_this_in write made c fs) ≡ bare_fields (write_this_in as_word made c (bare_fields fs))
      fields-bare c done = refl
      fields-bare c (f then fs) = λ i. by-bare (c zero) f i then fields-bare (λ j. c (suc j)) fs i

      by-bare : (s : ClassStanding) (f : Field) → bare_field (write_this_by write made s f) ≡ bare_field (write_this_by as_word made s (bare_field f))
      by-bare s missing = refl
      by-bare s (one t) = ap one (tree-bare s t)
      by-bare s (many ts) = ap many (trees-bare s ts)
      by-bare s (statements ts) = ap statements (trees-bare s ts)

      trees-bare : (s : ClassStanding) (ts : Trees) → bare_trees (write_this_among write made s ts) ≡ bare_trees (write_this_among as_word made s (bare_trees ts))
      trees-bare s empty = refl
      trees-bare s (t before ts) = λ i. tree-bare s t i before trees-bare s ts i

  declared-word : (y : Text) (d : Tree) → bare (as_declared y d) ≡ bare (plain_name y)
  declared-word y (node VariableDeclaration m (many (node VariableDeclarator k (one (node j i gs) then fs) before ds) then hs)) = refl
  declared-word y d = refl

  -- so what is reached from a tree is, as it is read, what a tree becomes that is bare the same
  pub bare-same : (s : ClassStanding) (t u : Tree) → bare t ≡ bare u → bare (write_this as_declared made s t) ≡ bare (set_this made s u)
  bare-same s t u e = tree-bare as_declared declared-word s t ∙ ap (λ (x : Tree). bare (write_this as_word made s x)) e ∙ sym (tree-bare as_word (λ y d. refl) s u) ∙ ap bare (tree-words made s u)
