-- What stays of a tree whose constructors' bodies become others: what it declares, where a name stands outside functions, and whether it is a call of
-- `super`.
use Rattle.std.proofs.Common.{◌≡◌, ◌∙◌, ℕ, zero, suc, refl, sym, ap, subst, ◌++◌}
use Rattle.std.specs.Prelude.{Bool, true, false, ◌||◌, ◌&&◌, bytes_eq, if◌then◌else◌}
use Rattle.es_tree.specs.HasForm.{same_type}
use Rattle.es_tree.specs.Names.{first_text, is_name_place}
use Rattle.es_tree.specs.Tree.{Tree, node, Label, Fields, done, ◌then◌, Field, missing, one, many, statements, Trees, empty, ◌before◌}
use Rattle.es_tree.specs.Words.{Text}
use Rattle.es_tree.specs.declared.ast_type.AstType.{AstType}
use Rattle.es_tree.specs.declared.ast_type.AstType.TheVariants.{CallExpression, ExpressionStatement, FunctionBody, Identifier}
use Rattle.es_super_calls.specs.Constructors.{is_body, standing_in}
use Rattle.es_super_calls.specs.SuperCalls.{calls_it, is_super_call, is_super_statement}
use Rattle.es_super_calls.specs.declared.standing.ClassStanding.{ClassStanding}
use Rattle.es_set_this.specs.ConstructorThis.{is_closed, names_among, names_by, names_first, names_in, names_it}
use Rattle.es_constructor_this.proofs.Written.{Writes, write_here, write_in_body, write_this, write_this_among, write_this_by, write_this_in}
use Rattle.es_constructor_this.proofs.SameSites.{SameField, SameFields, SameTree, SameTrees, fields-same, fields-then, first-same, later-same, many-same, missing-same, node-same, one-same, statements-same}
use Rattle.es_constructor_this.proofs.UnnamedParts.{scope-none}

pub not-both : (b c : Bool) (fs gs : Fields) → c ≡ false → (if b && c then fs else gs) ≡ gs
not-both true c fs gs e = λ j. if e j then fs else gs
not-both false c fs gs e = refl

module _ (write : Writes) (made : Text → Bool) where
  -- what stands elsewhere than as such a body has its parts set alone
  pub here-other : (s : ClassStanding) (k : AstType) (fs : Fields) → same_type k FunctionBody ≡ false → write_here write made s k fs ≡ fs
  here-other s k fs e = not-both (is_body s) (same_type k FunctionBody) (write_in_body write made fs) fs e

  -- WHAT IS DECLARED

  -- a body declares nothing around it
  pub body-same : (l : Label) (fs gs : Fields) → SameTree (node FunctionBody l fs) (node FunctionBody l gs)
  body-same l fs gs = record { declares = λ v r. scope-none v r FunctionBody l gs refl ∙ sym (scope-none v r FunctionBody l fs refl); named = λ r. refl; scope = refl; imports = refl; bodied = refl }

  mutual
    pub set-same : (s : ClassStanding) (t : Tree) → SameTree t (write_this write made s t)
    set-same s (node FunctionBody l fs) = body-same l fs (write_here write made s FunctionBody (write_this_in write made (standing_in s FunctionBody l fs) fs))
    set-same s (node k l fs) =
        let gs : Fields = write_this_in write made (standing_in s k l fs) fs in
        subst (λ (hs : Fields). SameTree (node k l fs) (node k l hs)) (sym (here-other s k gs refl)) (node-same k l fs gs (set-same-in (standing_in s k l fs) fs))

    pub set-same-in : (c : ℕ → ClassStanding) (fs : Fields) → SameFields fs (write_this_in write made c fs)
    set-same-in c done = fields-same done
    set-same-in c (f then fs) =
        let g : Field = write_this_by write made (c zero) f in
        let gs : Fields = write_this_in write made (λ i. c (suc i)) fs in
        fields-then (f then fs) (g then fs) (g then gs) (first-same f g fs (set-same-by (c zero) f)) (later-same g fs gs (set-same-in (λ i. c (suc i)) fs))

    pub set-same-by : (s : ClassStanding) (f : Field) → SameField f (write_this_by write made s f)
    set-same-by s missing = missing-same
    set-same-by s (one t) = one-same t (write_this write made s t) (set-same s t)
    set-same-by s (many ts) = many-same ts (write_this_among write made s ts) (set-same-among s ts)
    set-same-by s (statements ts) = statements-same ts (write_this_among write made s ts) (set-same-among s ts)

    pub set-same-among : (s : ClassStanding) (ts : Trees) → SameTrees ts (write_this_among write made s ts)
    set-same-among s empty = record { declares = λ v r. refl }
    set-same-among s (t before ts) = let head = set-same s t in let tail = set-same-among s ts in record { declares = λ v r j. head.declares v r j ++ tail.declares v r j }

  -- WHERE A NAME STANDS

  module _ (y : Text) where
    body-names : (b : Bool) (fs : Fields) → names_first y (if b then write_in_body write made fs else fs) ≡ names_first y fs
    body-names true done = refl
    body-names true (ds then done) = refl
    body-names true (ds then (statements ts then done)) = refl
    body-names true (ds then (statements ts then (f then fs))) = refl
    body-names true (ds then (missing then fs)) = refl
    body-names true (ds then (one t then fs)) = refl
    body-names true (ds then (many ts then fs)) = refl
    body-names false fs = refl

    mutual
      names-kept : (counts : Bool) (s : ClassStanding) (t : Tree) → names_it y counts (write_this write made s t) ≡ names_it y counts t
      names-kept counts s (node FunctionBody l fs) =
          let c : ℕ → ClassStanding = standing_in s FunctionBody l fs in
          let inner : names_first y (write_here write made s FunctionBody (write_this_in write made c fs)) ≡ names_first y fs = body-names (is_body s && same_type FunctionBody FunctionBody) (write_this_in write made c fs) ∙ first-kept c fs in
          λ i. (counts && same_type FunctionBody Identifier && bytes_eq (first_text l.texts) y) || inner i
      names-kept counts s (node k l fs) =
          let c : ℕ → ClassStanding = standing_in s k l fs in
          let here : write_here write made s k (write_this_in write made c fs) ≡ write_this_in write made c fs = here-other s k (write_this_in write made c fs) refl in
          (λ i. (counts && same_type k Identifier && bytes_eq (first_text l.texts) y) || (if is_closed k then names_first y (here i) else names_in y (is_name_place k l) (here i)))
          ∙ (λ i. (counts && same_type k Identifier && bytes_eq (first_text l.texts) y) || (if is_closed k then first-kept c fs i else in-kept (is_name_place k l) c fs i))

      first-kept : (c : ℕ → ClassStanding) (fs : Fields) → names_first y (write_this_in write made c fs) ≡ names_first y fs
      first-kept c done = refl
      first-kept c (f then fs) = by-kept true (c zero) f

      in-kept : (counts : ℕ → Bool) (c : ℕ → ClassStanding) (fs : Fields) → names_in y counts (write_this_in write made c fs) ≡ names_in y counts fs
      in-kept counts c done = refl
      in-kept counts c (f then fs) = λ i. by-kept (counts zero) (c zero) f i || in-kept (λ j. counts (suc j)) (λ j. c (suc j)) fs i

      by-kept : (counts : Bool) (s : ClassStanding) (f : Field) → names_by y counts (write_this_by write made s f) ≡ names_by y counts f
      by-kept counts s missing = refl
      by-kept counts s (one t) = names-kept counts s t
      by-kept counts s (many ts) = among-kept s ts
      by-kept counts s (statements ts) = among-kept s ts

      pub among-kept : (s : ClassStanding) (ts : Trees) → names_among y (write_this_among write made s ts) ≡ names_among y ts
      among-kept s empty = refl
      among-kept s (t before ts) = λ i. names-kept true s t i || among-kept s ts i

  -- CALLS of `super`

  pub calls-kept : (c : ℕ → ClassStanding) (fs : Fields) → calls_it (write_this_in write made c fs) ≡ calls_it fs
  calls-kept c done = refl
  calls-kept c (missing then fs) = refl
  calls-kept c (one (node k l gs) then fs) = refl
  calls-kept c (many ts then fs) = refl
  calls-kept c (statements ts then fs) = refl

  pub call-kept : (s : ClassStanding) (t : Tree) → is_super_call (write_this write made s t) ≡ is_super_call t
  call-kept s (node FunctionBody l fs) = refl
  call-kept s (node k l fs) =
      let c : ℕ → ClassStanding = standing_in s k l fs in
      ap (λ b. same_type k CallExpression && b) (ap calls_it (here-other s k (write_this_in write made c fs) refl) ∙ calls-kept c fs)

  pub statement-kept : (s : ClassStanding) (t : Tree) → is_super_statement (write_this write made s t) ≡ is_super_statement t
  statement-kept s (node ExpressionStatement l fs) =
      let c : ℕ → ClassStanding = standing_in s ExpressionStatement l fs in
      ap (λ gs. is_super_statement (node ExpressionStatement l gs)) (here-other s ExpressionStatement (write_this_in write made c fs) refl) ∙ at c fs
    where
      at : (c : ℕ → ClassStanding) (fs : Fields) → is_super_statement (node ExpressionStatement l (write_this_in write made c fs)) ≡ is_super_statement (node ExpressionStatement l fs)
      at c done = refl
      at c (missing then fs) = refl
      at c (one t then done) = call-kept (c zero) t
      at c (one t then (f then fs)) = refl
      at c (many ts then fs) = refl
      at c (statements ts then fs) = refl
  statement-kept s (node k l fs) = refl
