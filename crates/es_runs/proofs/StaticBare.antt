-- A bare tree keeps the static rules exactly where the tree does.
use Rattle.std.proofs.Common.{◌≡◌, ℕ, zero, suc, refl, sym, subst, ap, ◌∙◌, List, [], ◌∷◌, ◌++◌, map}
use Rattle.std.proofs.lemmas.List.{map-append}
use Rattle.std.specs.Prelude.{◌&&◌, ◌||◌, not, bytes_eq, codes, is_some, Option, Some, None}
use Rattle.std.specs.List.{list_any}
use Rattle.es_tree.specs.Bare.{bare, bare_label, bare_fields, bare_field, bare_trees}
use Rattle.es_tree.specs.Children.{child_at, only_child}
use Rattle.es_tree.specs.CoreStaticRules.{first_place, place_in, Visit, visit, visits, visits_in_fields, visits_in_field, visits_in_trees, Name, declared, clashes, is_bad_target, is_optional, has_optional, has_optional_in, is_empty_chain, is_stray_optional, is_private_name, is_private_member, is_kept, is_kept_within, is_bad_delete, is_name, needs_value, is_missing_init, is_broken, KeepRules, core_breaks}
use Rattle.es_tree.specs.Names.{first_text}
use Rattle.es_tree.specs.Parens.{without_parens}
use Rattle.es_tree.specs.Tree.{Tree, node, Label, Fields, done, ◌then◌, Field, missing, one, many, statements, Trees, empty, ◌before◌, kind_of}
use Rattle.es_tree.specs.declared.ast_type.AstType.{AstType}
use Rattle.es_tree.specs.declared.ast_type.AstType.TheVariants.{CallExpression, ChainExpression, Identifier, MemberExpression, ParenthesizedExpression, PrivateIdentifier, UnaryExpression, VariableDeclaration, VariableDeclarator}
use Rattle.es_tree.specs.declared.error.Rule.{Rule}
use Rattle.es_tree.specs.declared.error.Rule.TheVariants.{DuplicateName, BadTarget, EmptyChain, StrayOptional, DeleteName, MissingInit}
use Rattle.es_tree.specs.declared.place.Place.{Place}
use Rattle.es_tree.specs.declared.place.Place.TheVariants.{Other, ProgramBody, Spine, Target, Declarator, Declared}
use Rattle.es_tree.proofs.KeptRules.{keep-none, none-keep}

-- VISITS

abbrev pub bare_visit : Visit → Visit
bare_visit v = visit v.place (bare v.tree)

first_place-bare : (p : Place) (k : AstType) (l : Label) → first_place p k (bare_label l) ≡ first_place p k l
first_place-bare p VariableDeclaration l = refl
first_place-bare p _ l = refl

place_in-bare : (p : Place) (k : AstType) (l : Label) (n : ℕ) → place_in p k (bare_label l) n ≡ place_in p k l n
place_in-bare p k l zero = first_place-bare p k l
place_in-bare p k l (suc zero) = refl
place_in-bare p k l (suc (suc n)) = refl

mutual
  visits-bare : (p : Place) (t : Tree) → visits p (bare t) ≡ map bare_visit (visits p t)
  visits-bare p (node k l fs) = ap (λ vs. visit p (bare (node k l fs)) ∷ vs) (fields-bare p k l 0 fs)

  fields-bare : (p : Place) (k : AstType) (l : Label) (n : ℕ) (fs : Fields) → visits_in_fields p k (bare_label l) n (bare_fields fs) ≡ map bare_visit (visits_in_fields p k l n fs)
  fields-bare p k l n done = refl
  fields-bare p k l n (f then fs) =
      (λ i. visits_in_field (place_in-bare p k l n i) (bare_field f) ++ fields-bare p k l (suc n) fs i)
      ∙ ap (λ vs. vs ++ map bare_visit (visits_in_fields p k l (suc n) fs)) (field-bare (place_in p k l n) f)
      ∙ sym (map-append bare_visit (visits_in_field (place_in p k l n) f) (visits_in_fields p k l (suc n) fs))

  field-bare : (p : Place) (f : Field) → visits_in_field p (bare_field f) ≡ map bare_visit (visits_in_field p f)
  field-bare p missing = refl
  field-bare p (one t) = visits-bare p t
  field-bare p (many ts) = trees-bare p ts
  field-bare p (statements ts) = trees-bare p ts

  trees-bare : (p : Place) (ts : Trees) → visits_in_trees p (bare_trees ts) ≡ map bare_visit (visits_in_trees p ts)
  trees-bare p empty = refl
  trees-bare p (t before ts) = (λ i. visits-bare p t i ++ trees-bare p ts i) ∙ sym (map-append bare_visit (visits p t) (visits_in_trees p ts))

-- THE RULES

declared-bare : (p : Place) (t : Tree) → declared p (bare t) ≡ declared p t
declared-bare (Declared lexical) (node Identifier l fs) = refl
declared-bare (Declared lexical) (node _ l fs) = refl
declared-bare Other t = refl
declared-bare ProgramBody t = refl
declared-bare Spine t = refl
declared-bare (Target s) t = refl
declared-bare (Declarator top lexical constant) t = refl

stripped-bare : (t : Tree) → without_parens (bare t) ≡ bare (without_parens t)
stripped-bare (node ParenthesizedExpression l (one t then fs)) = stripped-bare t
stripped-bare (node ParenthesizedExpression l done) = refl
stripped-bare (node ParenthesizedExpression l (missing then fs)) = refl
stripped-bare (node ParenthesizedExpression l (many ts then fs)) = refl
stripped-bare (node ParenthesizedExpression l (statements ts then fs)) = refl
stripped-bare (node _ l fs) = refl

kind-bare : (t : Tree) → kind_of (bare t) ≡ kind_of t
kind-bare (node k l fs) = refl

target-bare : (p : Place) (t : Tree) → is_bad_target p (bare t) ≡ is_bad_target p t
target-bare (Target s) t = rw (kind-bare t, stripped-bare t, kind-bare (without_parens t)) refl
target-bare Other t = refl
target-bare ProgramBody t = refl
target-bare Spine t = refl
target-bare (Declared lexical) t = refl
target-bare (Declarator top lexical constant) t = refl

optional-label : (k : AstType) (l : Label) → is_optional k (bare_label l) ≡ is_optional k l
optional-label MemberExpression l = refl
optional-label _ l = refl

mutual
  optional-bare : (t : Tree) → has_optional (bare t) ≡ has_optional t
  optional-bare (node MemberExpression l fs) = ap (λ b. is_optional MemberExpression l || b) (optional_in-bare fs)
  optional-bare (node CallExpression l fs) = ap (λ b. is_optional CallExpression l || b) (optional_in-bare fs)
  optional-bare (node _ l fs) = refl

  optional_in-bare : (fs : Fields) → has_optional_in (bare_fields fs) ≡ has_optional_in fs
  optional_in-bare done = refl
  optional_in-bare (one t then fs) = optional-bare t
  optional_in-bare (missing then fs) = refl
  optional_in-bare (many ts then fs) = refl
  optional_in-bare (statements ts then fs) = refl

chain-bare : (t : Tree) → is_empty_chain (bare t) ≡ is_empty_chain t
chain-bare (node ChainExpression l fs) = ap (λ b. not b) (optional_in-bare fs)
chain-bare (node _ l fs) = refl

mark-bare : (p : Place) (t : Tree) → is_stray_optional p (bare t) ≡ is_stray_optional p t
mark-bare Spine t = refl
mark-bare Other (node k l fs) = optional-label k l
mark-bare ProgramBody (node k l fs) = optional-label k l
mark-bare (Target s) (node k l fs) = optional-label k l
mark-bare (Declared lexical) (node k l fs) = optional-label k l
mark-bare (Declarator top lexical constant) (node k l fs) = optional-label k l

bare_option : Option Tree → Option Tree
bare_option None = None
bare_option (Some t) = Some (bare t)

only-bare : (f : Field) → only_child (bare_field f) ≡ bare_option (only_child f)
unfolding bare_option
only-bare missing = refl
only-bare (one t) = refl
only-bare (many ts) = refl
only-bare (statements ts) = refl

child-bare : (n : ℕ) (fs : Fields) → child_at n (bare_fields fs) ≡ bare_option (child_at n fs)
unfolding bare_option
child-bare n done = refl
child-bare zero (f then fs) = only-bare f
child-bare (suc n) (f then fs) = child-bare n fs

private-bare : (o : Option Tree) → is_private_name (bare_option o) ≡ is_private_name o
unfolding bare_option
private-bare None = refl
private-bare (Some (node PrivateIdentifier l fs)) = refl
private-bare (Some (node _ l fs)) = refl

member-bare : (o : Option Tree) → is_private_member (bare_option o) ≡ is_private_member o
unfolding bare_option
member-bare None = refl
member-bare (Some (node MemberExpression l fs)) = ap is_private_name (child-bare 1 fs) ∙ private-bare (child_at 1 fs)
member-bare (Some (node _ l fs)) = refl

kept-bare : (t : Tree) → is_kept (bare t) ≡ is_kept t
kept-bare (node Identifier l fs) = refl
kept-bare (node MemberExpression l fs) = ap is_private_name (child-bare 1 fs) ∙ private-bare (child_at 1 fs)
kept-bare (node ChainExpression l fs) = ap is_private_member (child-bare 0 fs) ∙ member-bare (child_at 0 fs)
kept-bare (node _ l fs) = refl

within-bare : (o : Option Tree) → is_kept_within (bare_option o) ≡ is_kept_within o
unfolding bare_option
within-bare None = refl
within-bare (Some t) = ap is_kept (stripped-bare t) ∙ kept-bare (without_parens t)

deleted-bare : (t : Tree) → is_bad_delete (bare t) ≡ is_bad_delete t
deleted-bare (node UnaryExpression l fs) = ap (λ b. bytes_eq (first_text l.texts) (codes "delete") && b) (ap is_kept_within (child-bare 0 fs) ∙ within-bare (child_at 0 fs))
deleted-bare (node _ l fs) = refl

name-bare : (o : Option Tree) → is_name (bare_option o) ≡ is_name o
unfolding bare_option
name-bare None = refl
name-bare (Some (node Identifier l fs)) = refl
name-bare (Some (node _ l fs)) = refl

some-bare : (o : Option Tree) → is_some (bare_option o) ≡ is_some o
unfolding bare_option
some-bare None = refl
some-bare (Some t) = refl

needs-bare : (p : Place) (o : Option Tree) → needs_value p (bare_option o) ≡ needs_value p o
needs-bare (Declarator top lexical constant) o = ap (λ b. constant || not b) (name-bare o)
needs-bare Other o = refl
needs-bare ProgramBody o = refl
needs-bare Spine o = refl
needs-bare (Target s) o = refl
needs-bare (Declared lexical) o = refl

value-bare : (p : Place) (t : Tree) → is_missing_init p (bare t) ≡ is_missing_init p t
value-bare p (node VariableDeclarator l fs) = rw (child-bare 0 fs, child-bare 1 fs, needs-bare p (child_at 0 fs), some-bare (child_at 1 fs)) refl
value-bare p (node _ l fs) = refl

broken-bare : (earlier : List Name) (p : Place) (t : Tree) (r : Rule) → is_broken earlier p (bare t) r ≡ is_broken earlier p t r
broken-bare earlier p t DuplicateName = ap (λ ns. list_any (clashes earlier) ns) (declared-bare p t)
broken-bare earlier p t BadTarget = target-bare p t
broken-bare earlier p t EmptyChain = chain-bare t
broken-bare earlier p t StrayOptional = mark-bare p t
broken-bare earlier p t DeleteName = deleted-bare t
broken-bare earlier p t MissingInit = value-bare p t
broken-bare earlier p t _ = refl

to_bare : (earlier : List Name) (vs : List Visit) → KeepRules earlier vs → KeepRules earlier (map bare_visit vs)
to_bare earlier [] k = tt
to_bare earlier (v ∷ vs) k = (λ r. broken-bare earlier v.place v.tree r ∙ k.0 r, subst (λ ns. KeepRules (ns ++ earlier) (map bare_visit vs)) (sym (declared-bare v.place v.tree)) (to_bare (declared v.place v.tree ++ earlier) vs k.1))

from_bare : (earlier : List Name) (vs : List Visit) → KeepRules earlier (map bare_visit vs) → KeepRules earlier vs
from_bare earlier [] k = tt
from_bare earlier (v ∷ vs) k = (λ r. sym (broken-bare earlier v.place v.tree r) ∙ k.0 r, from_bare (declared v.place v.tree ++ earlier) vs (subst (λ ns. KeepRules (ns ++ earlier) (map bare_visit vs)) (declared-bare v.place v.tree) k.1))

-- a tree that breaks no rule keeps each, bare
pub bare_keeps : (t : Tree) → core_breaks t ≡ [] → KeepRules [] (visits Other (bare t))
bare_keeps t h = subst (λ vs. KeepRules [] vs) (sym (visits-bare Other t)) (to_bare [] (visits Other t) (keep-none [] (visits Other t) h))

pub bare_breaks : (t : Tree) → KeepRules [] (visits Other (bare t)) → core_breaks t ≡ []
bare_breaks t k = none-keep [] (visits Other t) (from_bare [] (visits Other t) (subst (λ vs. KeepRules [] vs) (visits-bare Other t) k))
