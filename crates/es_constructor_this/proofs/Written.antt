-- What programs become, whatever is written for the name that is set: by steps it is an identifier with its symbol.
use Rattle.std.proofs.Common.{◌≡◌, ℕ, zero, suc, refl, ap, ◌∙◌}
use Rattle.std.specs.Prelude.{Bool, ◌&&◌, Option, Some, None, if◌then◌else◌}
use Rattle.es_tree.specs.HasForm.{same_type}
use Rattle.es_tree.specs.Tree.{Tree, node, Fields, done, ◌then◌, Field, missing, one, many, statements, Trees, empty, ◌before◌}
use Rattle.es_tree.specs.Words.{Text}
use Rattle.es_tree.specs.declared.ast_type.AstType.{AstType}
use Rattle.es_tree.specs.declared.ast_type.AstType.TheVariants.{FunctionBody, VariableDeclaration, VariableDeclarator}
use Rattle.es_resolution.specs.Declarations.{symbol_of}
use Rattle.es_steps.specs.Nodes.{identifier}
use Rattle.es_super_calls.specs.Constructors.{is_body, standing_in}
use Rattle.es_super_calls.specs.declared.standing.ClassStanding.{ClassStanding}
use Rattle.es_set_this.specs.ConstructorThis.{names_among, plain_name, set_behind, set_here, set_in_body, set_statements, set_this, set_this_among, set_this_by, set_this_in, this_name, up_to_super, with_this_set, without_value}

-- for this name, which this statement declares
abbrev pub Writes : Type 0
Writes = Text → Tree → Tree

abbrev pub as_word : Writes
as_word y d = plain_name y

-- with the symbol that it has there
abbrev pub as_declared : Writes
as_declared y (node VariableDeclaration m (many (node VariableDeclarator k (one (node j i gs) then fs) before ds) then hs)) = identifier (record { name = y; symbol = symbol_of i })
as_declared y d = plain_name y

module _ (write : Writes) where
  abbrev pub write_behind : Option Text → Tree → Trees → Trees
  write_behind None d ts = d before ts
  write_behind (Some y) d ts = if names_among y ts then d before ts else without_value d before with_this_set (write y d) (up_to_super (write y d) ts)

  abbrev pub write_statements : (Text → Bool) → Trees → Trees
  write_statements made empty = empty
  write_statements made (d before ts) = write_behind (this_name made d) d ts

  abbrev pub write_in_body : (Text → Bool) → Fields → Fields
  write_in_body made (ds then (statements ts then done)) = ds then (statements (write_statements made ts) then done)
  write_in_body made fs = fs

  abbrev pub write_here : (Text → Bool) → ClassStanding → AstType → Fields → Fields
  write_here made s k fs = if is_body s && same_type k FunctionBody then write_in_body made fs else fs

  abbrev mutual
    pub write_this : (Text → Bool) → ClassStanding → Tree → Tree
    write_this made s (node k l fs) = node k l (write_here made s k (write_this_in made (standing_in s k l fs) fs))

    pub write_this_in : (Text → Bool) → (ℕ → ClassStanding) → Fields → Fields
    write_this_in made c done = done
    write_this_in made c (f then fs) = write_this_by made (c zero) f then write_this_in made (λ i. c (suc i)) fs

    pub write_this_by : (Text → Bool) → ClassStanding → Field → Field
    write_this_by made s missing = missing
    write_this_by made s (one t) = one (write_this made s t)
    write_this_by made s (many ts) = many (write_this_among made s ts)
    write_this_by made s (statements ts) = statements (write_this_among made s ts)

    pub write_this_among : (Text → Bool) → ClassStanding → Trees → Trees
    write_this_among made s empty = empty
    write_this_among made s (t before ts) = write_this made s t before write_this_among made s ts

-- BY WORDS

module _ (made : Text → Bool) where
  behind-words : (o : Option Text) (d : Tree) (ts : Trees) → write_behind as_word o d ts ≡ set_behind o d ts
  behind-words None d ts = refl
  behind-words (Some y) d ts = refl

  statements-words : (ts : Trees) → write_statements as_word made ts ≡ set_statements made ts
  statements-words empty = refl
  statements-words (d before ts) = behind-words (this_name made d) d ts

  body-words : (fs : Fields) → write_in_body as_word made fs ≡ set_in_body made fs
  body-words (ds then (statements ts then done)) = ap (λ us. ds then (statements us then done)) (statements-words ts)
  body-words done = refl
  body-words (ds then done) = refl
  body-words (ds then (statements ts then (f then fs))) = refl
  body-words (ds then (missing then fs)) = refl
  body-words (ds then (one t then fs)) = refl
  body-words (ds then (many ts then fs)) = refl

  here-words : (s : ClassStanding) (k : AstType) (fs gs : Fields) → fs ≡ gs → write_here as_word made s k fs ≡ set_here made s k gs
  here-words s k fs gs e = λ i. if is_body s && same_type k FunctionBody then (body-words fs ∙ ap (set_in_body made) e) i else e i

  mutual
    pub tree-words : (s : ClassStanding) (t : Tree) → write_this as_word made s t ≡ set_this made s t
    tree-words s (node k l fs) = ap (λ gs. node k l gs) (here-words s k _ _ (fields-words (standing_in s k l fs) fs))

    fields-words : (c : ℕ → ClassStanding) (fs : Fields) → write_this_in as_word made c fs ≡ set_this_in made c fs
    fields-words c done = refl
    fields-words c (f then fs) = λ i. field-words (c zero) f i then fields-words (λ j. c (suc j)) fs i

    field-words : (s : ClassStanding) (f : Field) → write_this_by as_word made s f ≡ set_this_by made s f
    field-words s missing = refl
    field-words s (one t) = ap one (tree-words s t)
    field-words s (many ts) = ap many (trees-words s ts)
    field-words s (statements ts) = ap statements (trees-words s ts)

    trees-words : (s : ClassStanding) (ts : Trees) → write_this_among as_word made s ts ≡ set_this_among made s ts
    trees-words s empty = refl
    trees-words s (t before ts) = λ i. tree-words s t i before trees-words s ts i
