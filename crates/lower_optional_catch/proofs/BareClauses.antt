-- A `catch` without a parameter, as the code sees it, and that what has form has a body.
use Rattle.std.proofs.Common.{◌≡◌, ◌∙◌, ◌<◌, List, [], ◌∷◌, length, refl, sym, arith, true≢false}
use Rattle.std.specs.Prelude.{ℕ, Bool, true, false, Option}
use Rattle.std.proofs.lemmas.Bool.{and_parts}
use Rattle.es_tree.specs.Constructs.{is_optional_catch}
use Rattle.es_tree.specs.Attributes.{child_entries}
use Rattle.es_tree.specs.HasForm.{fields_form, has_form}
use Rattle.es_tree.specs.Tree.{Tree, node, Label, Fields, done, ◌then◌, Field, missing, one, many, statements, fields_of, kind_of, label_of}
use Rattle.es_tree.specs.Views.{plain_field, plain_fields}
use Rattle.es_tree.specs.Words.{Text}
use Rattle.es_tree.specs.declared.ast_type.AstType.TheVariants.{CatchClause}
use Rattle.es_tree.specs.declared.node.Field.{Field as NodeField}
use Rattle.es_tree.specs.declared.node.Field.TheVariants.{Missing, One, Many, Statements}
use Rattle.es_tree.specs.declared.table.Sort.{Sort}
use Rattle.es_tree.proofs.NodeForm.{node_form}
use Rattle.es_resolution.specs.Seen.{seen, seen_in}
use Rattle.es_traverse.specs.Laws.{is_construct}
use Rattle.lower_optional_catch.specs.Catches.{has_body_alone, is_lowerable_catch}

one_field : (f : NodeField) → has_body_alone (plain_field f then done) ≡ false
one_field Missing = refl
one_field (One t) = refl
one_field (Many ts) = refl
one_field (Statements ts) = refl

pub short_clause : (fs : List NodeField) → length fs < 2 → has_body_alone (plain_fields fs) ≡ false
short_clause [] h = refl
short_clause (f ∷ []) h = one_field f
short_clause (f ∷ g ∷ fs) h = absurd (omega (arith, h))

three_fields : (f g : Field) (h : Field) (fs : Fields) → has_body_alone (f then (g then (h then fs))) ≡ false
three_fields missing (one b) h fs = refl
three_fields missing missing h fs = refl
three_fields missing (many ts) h fs = refl
three_fields missing (statements ts) h fs = refl
three_fields (one t) g h fs = refl
three_fields (many ts) g h fs = refl
three_fields (statements ts) g h fs = refl

pub long_clause : (fs : List NodeField) → 2 < length fs → has_body_alone (plain_fields fs) ≡ false
long_clause (f ∷ g ∷ k ∷ fs) h = three_fields (plain_field f) (plain_field g) (plain_field k) (plain_fields fs)
long_clause [] h = absurd (omega (arith, h))
long_clause (f ∷ []) h = absurd (omega (arith, h))
long_clause (f ∷ g ∷ []) h = absurd (omega (arith, h))

-- WHAT IS LOWERED

-- a `catch` without a parameter, of this label and body
pub record IsBareCatch (t : Tree) : Type 0 where
  pub label : Label
  pub body : Tree
  pub is : t ≡ node CatchClause label (missing then (one body then done))

pub bare-catch : (t : Tree) → is_lowerable_catch (kind_of t) (label_of t) (fields_of t) ≡ true → IsBareCatch t
bare-catch (node CatchClause l (missing then (one body then done))) h = record { label = l; body = body; is = refl }
bare-catch (node CatchClause l (missing then (one body then (f then fs)))) h = absurd (true≢false (sym h))
bare-catch (node CatchClause l (missing then (missing then fs))) h = absurd (true≢false (sym h))
bare-catch (node CatchClause l (missing then (many ts then fs))) h = absurd (true≢false (sym h))
bare-catch (node CatchClause l (missing then (statements ts then fs))) h = absurd (true≢false (sym h))
bare-catch (node CatchClause l (missing then done)) h = absurd (true≢false (sym h))
bare-catch (node CatchClause l (one t then fs)) h = absurd (true≢false (sym h))
bare-catch (node CatchClause l (many ts then fs)) h = absurd (true≢false (sym h))
bare-catch (node CatchClause l (statements ts then fs)) h = absurd (true≢false (sym h))
bare-catch (node CatchClause l done) h = absurd (true≢false (sym h))
bare-catch (node _ l fs) h = absurd (true≢false (sym h))

-- WHAT HAS FORM

body-form : (l : Label) (fs : Fields) → fields_form CatchClause l (child_entries CatchClause) fs ≡ true → is_optional_catch CatchClause l fs ≡ true → has_body_alone fs ≡ true
body-form l (missing then (one body then done)) h e = refl
body-form l (missing then (one body then (f then fs))) h e = absurd (true≢false (sym (and_parts _ false h).1))
body-form l (missing then (missing then fs)) h e = absurd (true≢false (sym h))
body-form l (missing then (many ts then fs)) h e = absurd (true≢false (sym h))
body-form l (missing then (statements ts then fs)) h e = absurd (true≢false (sym h))
body-form l (missing then done) h e = absurd (true≢false (sym h))
body-form l (one t then fs) h e = absurd (true≢false (sym e))
body-form l (many ts then fs) h e = absurd (true≢false (sym e))
body-form l (statements ts then fs) h e = absurd (true≢false (sym e))
body-form l done h e = absurd (true≢false (sym h))

-- a `catch` without a parameter that has form has its body, so that it is lowered
formed-catch : (s : Sort) (t : Tree) → has_form s t ≡ true → is_construct is_optional_catch t ≡ true → is_lowerable_catch (kind_of t) (label_of t) (fields_of t) ≡ true
formed-catch s (node CatchClause l fs) h e = body-form l fs (node_form s CatchClause l fs h).children e
formed-catch s (node _ l fs) h e = absurd (true≢false (sym e))

-- WHAT IS SEEN OF THEM

clause-seen : (names : ℕ → Text → Option ℕ) (fs : Fields) → has_body_alone (seen_in names fs) ≡ has_body_alone fs
clause-seen names (missing then (one body then done)) = refl
clause-seen names (missing then (one body then (f then fs))) = refl
clause-seen names (missing then (missing then fs)) = refl
clause-seen names (missing then (many ts then fs)) = refl
clause-seen names (missing then (statements ts then fs)) = refl
clause-seen names (missing then done) = refl
clause-seen names (one t then fs) = refl
clause-seen names (many ts then fs) = refl
clause-seen names (statements ts then fs) = refl
clause-seen names done = refl

lowerable-seen : (names : ℕ → Text → Option ℕ) (t : Tree) → is_lowerable_catch (kind_of (seen names t)) (label_of (seen names t)) (fields_of (seen names t)) ≡ is_lowerable_catch (kind_of t) (label_of t) (fields_of t)
lowerable-seen names (node CatchClause l fs) = clause-seen names fs
lowerable-seen names (node _ l fs) = refl

-- one that isn't lowered, as it is seen where it has form, has a parameter
pub no-catch : (names : ℕ → Text → Option ℕ) (t : Tree) (s : Sort) → is_lowerable_catch (kind_of t) (label_of t) (fields_of t) ≡ false → has_form s (seen names t) ≡ true → is_construct is_optional_catch (seen names t) ≡ false
no-catch names t s e h = at (is_construct is_optional_catch (seen names t)) refl
  where
    at : (b : Bool) → is_construct is_optional_catch (seen names t) ≡ b → b ≡ false
    at false d = refl
    at true d = absurd (true≢false (sym (formed-catch s (seen names t) h d) ∙ lowerable-seen names t ∙ e))
