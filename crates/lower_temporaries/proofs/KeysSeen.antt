-- What is seen of the keys of properties: their texts.
use Rattle.std.proofs.Common.{◌≡◌, ℕ, refl, Option}
use Rattle.std.specs.Prelude.{◌&&◌, is_some, not, unwrap_or, Bool}
use Rattle.es_tree.specs.Names.{first_text}
use Rattle.es_tree.specs.PropertyKeys.{is_read_key, key_text, literal_text, template_text}
use Rattle.es_tree.specs.Tree.{Tree, node, Fields, done, ◌then◌, missing, one, many, statements, empty, ◌before◌, label_of}
use Rattle.es_tree.specs.Words.{Text}
use Rattle.es_tree.specs.declared.ast_type.AstType.TheVariants.{TemplateElement, TemplateLiteral}
use Rattle.es_resolution.specs.Seen.{seen, seen_in}

module _ (names : ℕ → Text → Option ℕ) where
  template-seen : (fs : Fields) → template_text (seen_in names fs) ≡ template_text fs
  template-seen (many (node TemplateElement l gs before empty) then (many empty then done)) = refl
  template-seen (many (node TemplateElement l gs before empty) then (many empty then (f then fs))) = refl
  template-seen (many (node TemplateElement l gs before empty) then (many (t before ts) then fs)) = refl
  template-seen (many (node TemplateElement l gs before empty) then (one t then fs)) = refl
  template-seen (many (node TemplateElement l gs before empty) then (statements ts then fs)) = refl
  template-seen (many (node TemplateElement l gs before empty) then (missing then fs)) = refl
  template-seen (many (node TemplateElement l gs before empty) then done) = refl
  template-seen (many (node TemplateElement l gs before (t before ts)) then fs) = refl
  template-seen (many (node _ l gs before ts) then fs) = refl
  template-seen (many empty then fs) = refl
  template-seen (one t then fs) = refl
  template-seen (statements ts then fs) = refl
  template-seen (missing then fs) = refl
  template-seen done = refl

  pub literal-seen : (t : Tree) → literal_text (seen names t) ≡ literal_text t
  literal-seen (node TemplateLiteral l fs) = template-seen fs
  literal-seen (node _ l fs) = refl

  pub read_key-seen : (computed : Bool) (t : Tree) → is_read_key computed (seen names t) ≡ is_read_key computed t
  read_key-seen computed t = λ i. computed && not (is_some (literal-seen t i))

  pub key_text-seen : (t : Tree) → key_text (seen names t) ≡ key_text t
  key_text-seen (node k l fs) = λ i. unwrap_or (literal-seen (node k l fs) i) (first_text l.texts)
