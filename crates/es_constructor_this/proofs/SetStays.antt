-- Where no name was made no tree changes.
use Rattle.std.proofs.Common.{◌≡◌, ℕ, ap, refl, ◌∙◌}
use Rattle.std.specs.Prelude.{Bool, true, false, ◌&&◌, zero, suc, None, Option, if◌then◌else◌}
use Rattle.es_tree.specs.HasForm.{same_type}
use Rattle.es_tree.specs.Names.{first_text}
use Rattle.es_tree.specs.Tree.{Tree, label_of, node, Fields, done, ◌then◌, Field, missing, one, many, statements, Trees, empty, ◌before◌}
use Rattle.es_tree.specs.Words.{Text}
use Rattle.es_tree.specs.declared.ast_type.AstType.{AstType}
use Rattle.es_tree.specs.declared.ast_type.AstType.TheVariants.{FunctionBody, Identifier, VariableDeclaration, VariableDeclarator}
use Rattle.es_super_calls.specs.Constructors.{is_body, standing_in}
use Rattle.es_super_calls.specs.declared.standing.ClassStanding.{ClassStanding}
use Rattle.es_set_this.specs.ConstructorThis.{is_made_name, is_this, is_var, set_behind, set_here, set_in_body, set_statements, set_this, set_this_among, set_this_by, set_this_in, this_name}
use Rattle.es_constructor_this.specs.Laws.{LawSetStays}

module _ (made : Text → Bool) (none : (x : Text) → made x ≡ false) where
  no-made : (t : Tree) → is_made_name made t ≡ false
  no-made (node Identifier l done) = none _
  no-made t = refl

  never : (a b c : Bool) → b ≡ false → {A : Type 0} (x : A) → (if a && b && c then Option.Some x else None) ≡ None
  never true true c h x = absurd (cc h)
  never true false c h x = refl
  never false b c h x = refl

  no-name : (t : Tree) → this_name made t ≡ None
  no-name (node VariableDeclaration m (many (node VariableDeclarator k (one x then (one e then done)) before empty) then done)) = never (is_var m.texts) (is_made_name made x) (is_this e) (no-made x) (first_text (label_of x).texts)
  no-name t = refl

  list-stays : (ts : Trees) → set_statements made ts ≡ ts
  list-stays empty = refl
  list-stays (d before ts) = ap (λ (x : Option Text). set_behind x d ts) (no-name d)

  body-stays : (fs : Fields) → set_in_body made fs ≡ fs
  body-stays (ds then (statements ts then done)) = ap (λ (us : Trees). ds then (statements us then done)) (list-stays ts)
  body-stays fs = refl

  here-stays : (s : ClassStanding) (k : AstType) (fs : Fields) → set_here made s k fs ≡ fs
  here-stays s k fs = at (is_body s && same_type k FunctionBody)
    where
      at : (b : Bool) → (if b then set_in_body made fs else fs) ≡ fs
      at true = body-stays fs
      at false = refl

  mutual
    stays : (s : ClassStanding) (t : Tree) → set_this made s t ≡ t
    stays s (node k l fs) = ap (λ (gs : Fields). node k l gs) (here-stays s k (set_this_in made (standing_in s k l fs) fs) ∙ stays-in (standing_in s k l fs) fs)

    stays-in : (c : ℕ → ClassStanding) (fs : Fields) → set_this_in made c fs ≡ fs
    stays-in c done = refl
    stays-in c (f then fs) = λ i. stays-by (c zero) f i then stays-in (λ j. c (suc j)) fs i

    stays-by : (s : ClassStanding) (f : Field) → set_this_by made s f ≡ f
    stays-by s missing = refl
    stays-by s (one t) = ap one (stays s t)
    stays-by s (many ts) = ap many (stays-among s ts)
    stays-by s (statements ts) = ap statements (stays-among s ts)

    stays-among : (s : ClassStanding) (ts : Trees) → set_this_among made s ts ≡ ts
    stays-among s empty = refl
    stays-among s (t before ts) = λ i. stays s t i before stays-among s ts i

pub law_set_stays_proof : LawSetStays
law_set_stays_proof made s t none = stays made none s t
