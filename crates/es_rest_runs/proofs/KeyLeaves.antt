-- What a plain property leaves out in a program that has form: its key's text, or where the key is read, its value.
use Rattle.std.proofs.Common.{◌≡◌, refl, sym, ap, subst, ◌∙◌, List, [], ◌∷◌}
use Rattle.std.proofs.lemmas.Bool.{and_parts, not-true}
use Rattle.std.specs.Prelude.{Bool, true, false, not, ◌&&◌, ◌||◌, Option, Some, None, is_some, if◌then◌else◌}
use Rattle.es_tree.specs.Attributes.{child_entries, flag_entries, text_entries, texts_fit}
use Rattle.es_tree.specs.HasForm.{fields_form, flag_of, has_form, is_of_sort, sort_at}
use Rattle.es_tree.specs.Names.{flag_at}
use Rattle.es_tree.specs.Tree.{Tree, node, Label, Fields, done, ◌then◌, missing, one, many, statements, empty, ◌before◌, kind_of}
use Rattle.es_tree.specs.Walks.{all_nodes, all_in_fields}
use Rattle.es_tree.specs.Words.{Text}
use Rattle.es_tree.specs.declared.ast_type.AstType.{AstType}
use Rattle.es_tree.specs.declared.ast_type.AstType.TheVariants.{BigIntLiteral, BooleanLiteral, Identifier, NullLiteral, NumericLiteral, PatternProperty, PrivateIdentifier, StringLiteral, TemplateElement, TemplateLiteral, ThisExpression, RegExpLiteral, TaggedTemplateExpression, ArrayExpression, ObjectExpression, UnaryExpression, UpdateExpression, BinaryExpression, LogicalExpression, ConditionalExpression, AssignmentExpression, SequenceExpression, MemberExpression, CallExpression, NewExpression, ChainExpression, ParenthesizedExpression, MetaProperty}
use Rattle.es_tree.specs.declared.table.FieldName.TheVariants.{Computed as f-Computed}
use Rattle.es_tree.specs.declared.table.Sort.TheVariants.{Expression as s-Expression, PropertyKey as s-PropertyKey, TemplateElement as s-TemplateElement}
use Rattle.es_tree.proofs.NodeForm.{node_form}
use Rattle.es_resolution.proofs.AllForms.{All}
use Rattle.es_tree.specs.PropertyKeys.{is_literal_key, is_read_key, key_text, second_text, template_text}
use Rattle.es_rest_shapes.specs.RestShapes.{is_known_key, is_plain_key, is_plain_property, is_plain_value}
use Rattle.es_statement_runs.specs.Helpers.Supply.{by_global}
use Rattle.es_statement_runs.specs.Kinds.{sense}
use Rattle.es_statement_runs.specs.Laws.{is_key, key_text as text_of_key}
use Rattle.es_statement_runs.specs.Places.{placed_at}
use Rattle.es_statement_runs.specs.Programs.{is_statement_kind}
use Rattle.es_statement_runs.specs.Senses.{excluded_text}
use Rattle.es_statement_steps.proofs.Stands.{standing, stands}
use Rattle.es_split_runs.specs.Laws.{LeavesOut, property_at}
use Rattle.es_split_runs.proofs.KeyTexts.{static_leaves}
use Rattle.es_split_runs.proofs.ReadKeys.{is_read_kind, read_leaves, template_leaves}
use Rattle.es_rest_runs.proofs.LiteralKeys.{cooked-same, law_literal_keys_proof, second-same}
use Rattle.es_rest_runs.proofs.SeenPlaces.{KeyFormed}
use Rattle.es_rest_runs.proofs.TakenGroups.{KeyLeaves, PropertyLeaves, property_shape}

-- KINDS, by the table

static_kind : (j : AstType) → is_of_sort s-PropertyKey j ≡ true → is_statement_kind j ≡ true → is_key j ≡ true
static_kind Identifier e c = refl
static_kind StringLiteral e c = refl
static_kind NumericLiteral e c = refl
static_kind BigIntLiteral e c = refl
static_kind PrivateIdentifier e c = absurd (cc c)
static_kind _ e c = absurd (cc e)

abbrev is_literal_kind : AstType → Bool
is_literal_kind NullLiteral = true
is_literal_kind BooleanLiteral = true
is_literal_kind NumericLiteral = true
is_literal_kind BigIntLiteral = true
is_literal_kind StringLiteral = true
is_literal_kind TemplateLiteral = true
is_literal_kind k = false

read_kind : (j : AstType) → is_of_sort s-Expression j ≡ true → is_statement_kind j ≡ true → is_literal_kind j ≡ false → is_read_kind j ≡ true
read_kind Identifier e c n = refl
read_kind ThisExpression e c n = refl
read_kind RegExpLiteral e c n = refl
read_kind TaggedTemplateExpression e c n = refl
read_kind ArrayExpression e c n = refl
read_kind ObjectExpression e c n = refl
read_kind UnaryExpression e c n = refl
read_kind UpdateExpression e c n = refl
read_kind BinaryExpression e c n = refl
read_kind LogicalExpression e c n = refl
read_kind ConditionalExpression e c n = refl
read_kind AssignmentExpression e c n = refl
read_kind SequenceExpression e c n = refl
read_kind MemberExpression e c n = refl
read_kind CallExpression e c n = refl
read_kind NewExpression e c n = refl
read_kind ChainExpression e c n = refl
read_kind ParenthesizedExpression e c n = refl
read_kind MetaProperty e c n = refl
read_kind NullLiteral e c n = absurd (cc n)
read_kind BooleanLiteral e c n = absurd (cc n)
read_kind NumericLiteral e c n = absurd (cc n)
read_kind BigIntLiteral e c n = absurd (cc n)
read_kind StringLiteral e c n = absurd (cc n)
read_kind TemplateLiteral e c n = absurd (cc n)
read_kind _ e c n = absurd (cc (e, c))

-- FORM

short : (a : Bool) → (a && false) ≡ true → ⊥
short true e = cc e
short false e = cc e

shorter : (a b : Bool) → (a && (b && false)) ≡ true → ⊥
shorter true b e = short b e
shorter false b e = cc e

flags_are : (bs : List Bool) → flag_of f-Computed (flag_entries PatternProperty) bs ≡ flag_at 1 bs
flags_are [] = refl
flags_are (a ∷ []) = refl
flags_are (a ∷ (b ∷ bs)) = refl

-- a number has two texts
two_texts : (ts : List (Option Text)) → texts_fit (text_entries NumericLiteral) ts ≡ true → is_some (second_text ts) ≡ true
two_texts [] h = absurd (cc h)
two_texts (t ∷ []) h = absurd (short _ h)
two_texts (t ∷ (Some u ∷ ts)) h = refl
two_texts (t ∷ (None ∷ ts)) h = absurd (short _ h)

two_texts_too : (ts : List (Option Text)) → texts_fit (text_entries BigIntLiteral) ts ≡ true → is_some (second_text ts) ≡ true
two_texts_too [] h = absurd (cc h)
two_texts_too (t ∷ []) h = absurd (short _ h)
two_texts_too (t ∷ (Some u ∷ ts)) h = refl
two_texts_too (t ∷ (None ∷ ts)) h = absurd (short _ h)

no_text : (o : Option Text) → is_some o ≡ false → o ≡ None
no_text (Some t) h = absurd (cc h)
no_text None h = refl

both_ways : (b : Bool) → b ≡ true → b ≡ false → ⊥
both_ways true e f = cc f
both_ways false e f = cc e

-- KEYS

module _ (l : Label) where
  static_text_is : (k : Tree) → is_key (kind_of k) ≡ true → is_known_key k ≡ true → text_of_key k ≡ key_text k
  static_text_is (node Identifier m fs) e h = refl
  static_text_is (node StringLiteral m fs) e h = refl
  static_text_is (node NumericLiteral m fs) e h = second-same m.texts h
  static_text_is (node BigIntLiteral m fs) e h = second-same m.texts h
  static_text_is (node _ m fs) e h = absurd (cc e)

  module _ (computed : flag_at 1 l.flags ≡ true) where
    template_none : (m : Label) (fs : Fields) → fields_form TemplateLiteral m (child_entries TemplateLiteral) fs ≡ true → is_some (template_text fs) ≡ false → LeavesOut by_global None l (node TemplateLiteral m fs)
    template_none m (many qs then (many (e before es) then done)) form none = template_leaves by_global l m qs es e computed
    template_none m (many empty then (many empty then done)) form none = λ w. ap (λ (c : Bool). excluded_text c (sense (placed_at by_global w [] []) (node TemplateLiteral m (many empty then (many empty then done))))) computed
    template_none m (many (q before (r before qs)) then (many empty then done)) form none = λ w. ap (λ (c : Bool). excluded_text c (sense (placed_at by_global w [] []) (node TemplateLiteral m (many (q before (r before qs)) then (many empty then done))))) computed
    template_none m (many (node TemplateElement n gs before empty) then (many empty then done)) form none = λ w.
        ap (λ (c : Bool). excluded_text c (sense (placed_at by_global w [] []) (node TemplateLiteral m (many (node TemplateElement n gs before empty) then (many empty then done))))) computed
        ∙ (cooked-same n.texts ∙ no_text (second_text n.texts) none)
    template_none m (many (node j n gs before empty) then (many empty then done)) form none =
        absurd (let no = (node_form s-TemplateElement j n gs (and_parts (has_form s-TemplateElement (node j n gs)) true (and_parts (has_form s-TemplateElement (node j n gs) && true) true form).0).0).sort in cc no)
    template_none m (many qs then (many es then (f then fs))) form none = absurd (shorter _ _ form)
    template_none m (many qs then (missing then fs)) form none = absurd (short _ form)
    template_none m (many qs then (one t then fs)) form none = absurd (short _ form)
    template_none m (many qs then (statements ts then fs)) form none = absurd (short _ form)
    template_none m (many qs then done) form none = absurd (short _ form)
    template_none m (missing then fs) form none = absurd (cc form)
    template_none m (one t then fs) form none = absurd (cc form)
    template_none m (statements ts then fs) form none = absurd (cc form)
    template_none m done form none = absurd (cc form)

    read_none : (k : Tree) → has_form s-Expression k ≡ true → is_statement_kind (kind_of k) ≡ true → is_literal_key k ≡ false → LeavesOut by_global None l k
    read_none (node NullLiteral m fs) form c n = absurd (cc n)
    read_none (node BooleanLiteral m fs) form c n = absurd (cc n)
    read_none (node StringLiteral m fs) form c n = absurd (cc n)
    read_none (node NumericLiteral m fs) form c n = absurd (both_ways (is_some (second_text m.texts)) (two_texts m.texts (node_form s-Expression NumericLiteral m fs form).texts) n)
    read_none (node BigIntLiteral m fs) form c n = absurd (both_ways (is_some (second_text m.texts)) (two_texts_too m.texts (node_form s-Expression BigIntLiteral m fs form).texts) n)
    read_none (node TemplateLiteral m fs) form c n = template_none m fs (node_form s-Expression TemplateLiteral m fs form).children n
    read_none (node k m fs) form c n = read_leaves by_global l (node k m fs) computed (read_kind k (node_form s-Expression k m fs form).sort c refl)

  key_leaves : (k : Tree) → is_plain_key (flag_at 1 l.flags) k ≡ true → is_statement_kind (kind_of k) ≡ true → has_form (sort_at PatternProperty l s-PropertyKey) k ≡ true → KeyLeaves l k
  key_leaves k plain class form = record { known = known (flag_at 1 l.flags) refl; read = read }
    where
      placed : (c : Bool) → flag_at 1 l.flags ≡ c → has_form (if c then s-Expression else s-PropertyKey) k ≡ true
      placed c e = subst (λ (b : Bool). has_form (if b then s-Expression else s-PropertyKey) k ≡ true) (flags_are l.flags ∙ e) form

      key_kind : (t : Tree) → has_form s-PropertyKey t ≡ true → is_statement_kind (kind_of t) ≡ true → is_key (kind_of t) ≡ true
      key_kind (node j m fs) h c = static_kind j (node_form s-PropertyKey j m fs h).sort c

      literal : (b : Bool) → not b ≡ false → b ≡ true
      literal true h = refl
      literal false h = absurd (cc h)

      known : (c : Bool) → flag_at 1 l.flags ≡ c → is_read_key (flag_at 1 l.flags) k ≡ false → LeavesOut by_global (Some (key_text k)) l k
      known true e r = law_literal_keys_proof by_global l k e (literal (is_literal_key k) (ap (λ b. b && not (is_literal_key k)) (sym e) ∙ r))
      known false e r =
          let kind = key_kind k (placed false e) class in
          let plain_there = ap (λ b. b || is_known_key k) (sym e) ∙ plain in
          subst (λ (t : Text). LeavesOut by_global (Some t) l k) (static_text_is k kind plain_there) (static_leaves by_global l k e kind)

      read : is_read_key (flag_at 1 l.flags) k ≡ true → LeavesOut by_global None l k
      read r = let d = and_parts (flag_at 1 l.flags) (not (is_literal_key k)) r in read_none d.0 k (placed true d.0) class (not-true (is_literal_key k) d.1)

kind_class : (k : Tree) → all_nodes stands k ≡ true → is_statement_kind (kind_of k) ≡ true
kind_class (node j m gs) h = (standing j m gs h).class

pub property_leaves : (p : Tree) → is_plain_property p ≡ true → all_nodes stands p ≡ true → All KeyFormed p → PropertyLeaves p
property_leaves p plain fine keys =
    let shape = property_shape p plain in
    subst (λ (t : Tree). is_plain_property t ≡ true → all_nodes stands t ≡ true → All KeyFormed t → PropertyLeaves t) {x = property_at shape.label shape.key shape.value} (sym shape.same) (at shape.label shape.key shape.value) plain fine keys
  where
    at : (l : Label) (k v : Tree) → is_plain_property (property_at l k v) ≡ true → all_nodes stands (property_at l k v) ≡ true → All KeyFormed (property_at l k v) → KeyLeaves l k
    at l k v plain fine keys =
        let fs : Fields = one k then (one v then done) in
        key_leaves l k (and_parts (is_plain_key (flag_at 1 l.flags) k) (is_plain_value v) plain).0
        (kind_class k (and_parts (all_nodes stands k) (all_in_fields stands (one v then done)) (standing PatternProperty l fs fine).below).0) keys.0
