-- What has form: an assignment to a pattern with a rest, whose target is a name or a member, is one that the code lowers; and the same of what is seen.
use Rattle.std.proofs.Common.{◌≡◌, ◌∙◌, ◌&&◌, ◌||◌, ℕ, refl, sym, ap, Option}
use Rattle.std.proofs.lemmas.Bool.{and_from, and_parts}
use Rattle.std.specs.Prelude.{Bool, true, false, bytes_eq, codes}
use Rattle.es_tree.proofs.CoreBreaks.{among_kinds}
use Rattle.es_tree.proofs.NodeForm.{node_form}
use Rattle.es_tree.specs.Constructs.{any_kind, field_at, is_rest}
use Rattle.es_tree.specs.CoreStaticRules.{is_simple_target}
use Rattle.es_tree.specs.HasForm.{has_form, trees_form}
use Rattle.es_tree.specs.Names.{first_text}
use Rattle.es_tree.specs.Parens.{without_parens}
use Rattle.es_tree.specs.Table.{kinds_of}
use Rattle.es_tree.specs.RestTargets.{is_rest_target}
use Rattle.es_tree.specs.Tree.{Tree, node, Label, Fields, done, ◌then◌, missing, one, many, statements, Trees, empty, ◌before◌, kind_of}
use Rattle.es_tree.specs.Words.{Text}
use Rattle.es_tree.specs.declared.ast_type.AstType.{AstType}
use Rattle.es_tree.specs.declared.ast_type.AstType.TheVariants.{AssignmentExpression, ObjectTarget, TargetProperty, TargetRest}
use Rattle.es_tree.specs.declared.table.Sort.{Sort}
use Rattle.es_tree.specs.declared.table.Sort.TheVariants.{AssignmentTarget as s-AssignmentTarget, Expression as s-Expression, PropertyKey as s-PropertyKey, TargetElement as s-TargetElement, TargetMember as s-TargetMember, TargetMemberRest as s-TargetMemberRest}
use Rattle.es_resolution.specs.Seen.{seen, seen_among, seen_in}
use Rattle.es_row_laws.specs.Laws.{is_lowered_rest, rests_are_simple, is_simple_rest as is_lowered_member}
use Rattle.es_traverse.specs.Laws.{is_construct}
use Rattle.lower_temporaries.specs.Shapes.{is_pair}
use Rattle.lower_temporaries.proofs.SeenLaws.{parens-seen}
use Rattle.lower_temporaries.proofs.TwoFields.{TwoChildren, two-children, two-seen}
use Rattle.lower_rest_assignments.specs.Assignments.{are_members, has_members, has_simple_target, is_lowerable_assignment, is_lowerable_pattern, is_property, is_simple_rest, takes_pattern}

-- MEMBERS

property-formed : (s : Sort) (l : Label) (fs : Fields) → has_form s (node TargetProperty l fs) ≡ true → is_pair fs ≡ true
property-formed s l fs h = ap is_pair (two-children TargetProperty l s-PropertyKey s-TargetElement _ _ refl refl fs (node_form s TargetProperty l fs h).children).fields_are

rest-formed : (s : Sort) (l : Label) (fs : Fields) → has_form s (node TargetRest l fs) ≡ true → is_lowered_member (node TargetRest l fs) ≡ true → has_simple_target fs ≡ true
rest-formed s l (one t then done) h e = e
rest-formed s l done h e = absurd (cc (node_form s TargetRest l done h).children)
rest-formed s l (missing then fs) h e = absurd (cc (node_form s TargetRest l (missing then fs) h).children)
rest-formed s l (many ts then fs) h e = absurd (cc (node_form s TargetRest l (many ts then fs) h).children)
rest-formed s l (statements ts then fs) h e = absurd (cc (node_form s TargetRest l (statements ts then fs) h).children)
rest-formed s l (one t then (f then fs)) h e = absurd (cc (and_parts (has_form s-TargetElement t) false (node_form s TargetRest l (one t then (f then fs)) h).children).1)

-- the kinds that may stand before the last, and at the end

abbrev is_property_kind : AstType → Bool
is_property_kind TargetProperty = true
is_property_kind _ = false

abbrev is_member_kind : AstType → Bool
is_member_kind TargetProperty = true
is_member_kind TargetRest = true
is_member_kind _ = false

no-rest : (k : AstType) → is_property_kind k ≡ true → is_rest k ≡ false
no-rest TargetProperty e = refl
no-rest _ e = absurd (cc e)

formed-property : (k : AstType) (l : Label) (fs : Fields) → is_property_kind k ≡ true → has_form s-TargetMember (node k l fs) ≡ true → is_property (node k l fs) ≡ true
formed-property TargetProperty l fs e h = property-formed s-TargetMember l fs h
formed-property _ l fs e h = absurd (cc e)

formed-last : (k : AstType) (l : Label) (fs : Fields) → is_member_kind k ≡ true → is_rest k ≡ true → has_form s-TargetMemberRest (node k l fs) ≡ true → is_lowered_member (node k l fs) ≡ true → is_simple_rest (node k l fs) ≡ true
formed-last TargetRest l fs e rest h simple = rest-formed s-TargetMemberRest l fs h simple
formed-last TargetProperty l fs e rest h simple = absurd (cc rest)
formed-last _ l fs e rest h simple = absurd (cc e)

members-formed : (ps : Trees) → trees_form s-TargetMember s-TargetMemberRest ps ≡ true → any_kind is_rest ps ≡ true → rests_are_simple ps ≡ true → are_members ps ≡ true
members-formed empty f rest simple = absurd (cc rest)
members-formed (node k l fs before empty) f rest simple =
    let t = node k l fs in
    let form = (and_parts (has_form s-TargetMemberRest t) true f).0 in
    let kind = among_kinds is_member_kind k (kinds_of s-TargetMemberRest) (node_form s-TargetMemberRest k l fs form).sort refl in
    formed-last k l fs kind (sym (or-off (is_rest k)) ∙ rest) form (and_parts (is_lowered_member t) true simple).0
  where
    or-off : (b : Bool) → (b || false) ≡ b
    or-off true = refl
    or-off false = refl
members-formed (node k l fs before (p before ps)) f rest simple =
    let t = node k l fs in
    let forms = and_parts (has_form s-TargetMember t) (trees_form s-TargetMember s-TargetMemberRest (p before ps)) f in
    let kind = among_kinds is_property_kind k (kinds_of s-TargetMember) (node_form s-TargetMember k l fs forms.0).sort refl in
    let later : any_kind is_rest (p before ps) ≡ true = sym (ap (λ b. b || any_kind is_rest (p before ps)) (no-rest k kind)) ∙ rest in
    and_from (is_property t) (are_members (p before ps)) (formed-property k l fs kind forms.0) (members-formed (p before ps) forms.1 later (and_parts (is_lowered_member t) (rests_are_simple (p before ps)) simple).1)

-- A PATTERN

pattern-formed : (l : Label) (ps : Trees) (fs : Fields) → has_form s-AssignmentTarget (node ObjectTarget l (many ps then fs)) ≡ true → any_kind is_rest ps ≡ true → rests_are_simple ps ≡ true → is_lowerable_pattern (node ObjectTarget l (many ps then fs)) ≡ true
pattern-formed l ps done h rest simple = members-formed ps (and_parts (trees_form s-TargetMember s-TargetMemberRest ps) true (node_form s-AssignmentTarget ObjectTarget l (many ps then done) h).children).0 rest simple
pattern-formed l ps (f then fs) h rest simple = absurd (cc (and_parts (trees_form s-TargetMember s-TargetMemberRest ps) false (node_form s-AssignmentTarget ObjectTarget l (many ps then (f then fs)) h).children).1)

-- AN ASSIGNMENT

two-sides : (s : Sort) (l : Label) (fs : Fields) → has_form s (node AssignmentExpression l fs) ≡ true → TwoChildren AssignmentExpression l s-AssignmentTarget s-Expression fs
two-sides s l fs h = two-children AssignmentExpression l s-AssignmentTarget s-Expression _ _ refl refl fs (node_form s AssignmentExpression l fs h).children

-- its pattern is the first of two children
formed-first : (l : Label) (p : Tree) (fs : Fields) → TwoChildren AssignmentExpression l s-AssignmentTarget s-Expression (one p then fs) → (has_form s-AssignmentTarget p ≡ true → is_lowerable_pattern p ≡ true) → takes_pattern (one p then fs) ≡ true
formed-first l p fs c formed =
    let first : one p ≡ one c.first = ap (field_at 0) c.fields_are in
    let same : p ≡ c.first = cc in
    let pattern = formed (ap (has_form s-AssignmentTarget) same ∙ c.left) in
    ap takes_pattern c.fields_are ∙ (ap is_lowerable_pattern (sym same) ∙ pattern)

pub formed-assignment : (s : Sort) (t : Tree) → has_form s t ≡ true → is_construct is_lowered_rest t ≡ true → is_construct is_lowerable_assignment t ≡ true
formed-assignment s (node AssignmentExpression l (one (node ObjectTarget m (many ps then gs)) then fs)) h e =
    let p = node ObjectTarget m (many ps then gs) in
    let parts = two-sides s l (one p then fs) h in
    let both = and_parts (bytes_eq (first_text l.texts) (codes "=") && is_rest_target (one p)) (rests_are_simple ps) e in
    let assigned = and_parts (bytes_eq (first_text l.texts) (codes "=")) (is_rest_target (one p)) both.0 in
    and_from (bytes_eq (first_text l.texts) (codes "=")) (takes_pattern (one p then fs)) assigned.0 (formed-first l p fs parts (λ f. pattern-formed m ps gs f assigned.1 both.1))
formed-assignment s (node _ l fs) h e = absurd (cc e)

-- AS IT IS SEEN

module _ (names : ℕ → Text → Option ℕ) where
  property-seen : (t : Tree) → is_property (seen names t) ≡ is_property t
  property-seen (node TargetProperty l fs) = two-seen names (λ k v. true) (λ k v. refl) fs
  property-seen (node _ l fs) = refl

  pub simple-seen : (t : Tree) → is_simple_target (kind_of (without_parens (seen names t))) ≡ is_simple_target (kind_of (without_parens t))
  simple-seen t = ap (λ u. is_simple_target (kind_of u)) (parens-seen names t) ∙ same (without_parens t)
    where
      same : (u : Tree) → is_simple_target (kind_of (seen names u)) ≡ is_simple_target (kind_of u)
      same (node k l fs) = refl

  target-seen : (fs : Fields) → has_simple_target (seen_in names fs) ≡ has_simple_target fs
  target-seen (one t then done) = simple-seen t
  target-seen (one t then (f then fs)) = refl
  target-seen (missing then fs) = refl
  target-seen (many ts then fs) = refl
  target-seen (statements ts then fs) = refl
  target-seen done = refl

  rest-seen : (t : Tree) → is_simple_rest (seen names t) ≡ is_simple_rest t
  rest-seen (node TargetRest l fs) = target-seen fs
  rest-seen (node _ l fs) = refl

  members-seen : (ts : Trees) → are_members (seen_among names ts) ≡ are_members ts
  members-seen empty = refl
  members-seen (t before empty) = rest-seen t
  members-seen (t before (u before us)) = λ i. property-seen t i && members-seen (u before us) i

  pattern-seen : (t : Tree) → is_lowerable_pattern (seen names t) ≡ is_lowerable_pattern t
  pattern-seen (node ObjectTarget l fs) = at fs
    where
      at : (fs : Fields) → has_members (seen_in names fs) ≡ has_members fs
      at (many ts then done) = members-seen ts
      at (many ts then (f then fs)) = refl
      at (one t then fs) = refl
      at (missing then fs) = refl
      at (statements ts then fs) = refl
      at done = refl
  pattern-seen (node _ l fs) = refl

  pub lowerable-seen : (t : Tree) → is_construct is_lowerable_assignment (seen names t) ≡ is_construct is_lowerable_assignment t
  lowerable-seen (node AssignmentExpression l fs) = ap (λ b. bytes_eq (first_text l.texts) (codes "=") && b) (two-seen names (λ p e. is_lowerable_pattern p) (λ p e. pattern-seen p) fs)
  lowerable-seen (node _ l fs) = refl
