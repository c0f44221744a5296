-- Rows of logical assignment, exponentiation and optional chaining leave `babelHelpers` in calls of the helper of object spread alone: that of chains, where none
-- stands in the chain.
use Rattle.std.proofs.Common.{◌≡◌, ◌∙◌, ℕ, zero, suc, refl, subst, List}
use Rattle.std.proofs.lemmas.Bool.{and_from, and_parts}
use Rattle.std.specs.Prelude.{◌&&◌, ◌||◌, Bool, true, false, not, Option, Some, None, bytes_eq}
use Rattle.es_tree.specs.Fresh.{IsFreshName}
use Rattle.es_tree.specs.Names.{first_text}
use Rattle.es_tree.specs.Parens.{without_parens}
use Rattle.es_tree.specs.Tree.{Tree, node, Label, Fields, done, ◌then◌, Field, missing, one, many, statements, Trees, empty, ◌before◌}
use Rattle.es_tree.specs.Walks.{all_in_field, all_in_fields, all_in_trees, all_nodes}
use Rattle.es_tree.specs.Words.{Text}
use Rattle.es_tree.specs.declared.ast_type.AstType.{AstType}
use Rattle.es_tree.specs.declared.ast_type.AstType.TheVariants.{CallExpression, Identifier, MemberExpression, ParenthesizedExpression}
use Rattle.es_tree.specs.declared.helper.Helper.{Helper}
use Rattle.es_runs.proofs.Temporary.{bytes_eq-flip}
use Rattle.es_semantic.specs.RolesOf.{reads, role_at, target_of}
use Rattle.es_semantic.specs.declared.place.Role.{Role}
use Rattle.es_resolution.specs.Declarations.{Bound}
use Rattle.es_steps.specs.Exponentiation.{ExponentiationRule}
use Rattle.es_steps.specs.LogicalAssignment.{LogicalAssignmentRule}
use Rattle.es_steps.specs.OptionalChaining.{OptionalChainingRule}
use Rattle.es_steps.specs.Steps.{Site, Whole}
use Rattle.es_statement_runs.specs.HelperMembers.{no_helper_member}
use Rattle.es_statement_steps.proofs.ChainsApart.{chain-apart}
use Rattle.es_statement_steps.proofs.MadeNames.{fresh_made, made_apart}
use Rattle.es_statement_steps.proofs.Nameless.{Nameless}
use Rattle.es_helper_calls.specs.HelperCalls.{used_helper}
use Rattle.es_import_runs.proofs.Callings.{HelperCall, helper_shape, helpers_}
use Rattle.es_import_runs.proofs.Callings.HelperCall.{helper_called, helper_passed}
use Rattle.es_import_runs.proofs.OnlyCopies.{any_copies, copies, copies_among, copies_by, copies_in, handed_other, is_name_kind, is_nothing, name_other, node_copies, only_copies, or_more}
use Rattle.es_import_runs.proofs.RowWalks.{Keeps, assigning_keeps, chaining_keeps, key_in, raising_keeps}

pub fresh_other : (in_use : Text → Bool) (base x : Text) → IsFreshName in_use base x → bytes_eq x helpers_ ≡ false
fresh_other in_use base x h = bytes_eq-flip x helpers_ ∙ made_apart helpers_ x refl (fresh_made in_use base x h)

pub not_both : (b : Bool) → b ≡ false → not b ≡ true
not_both true h = absurd (cc h)
not_both false h = refl

pair : (a b : Bool) → a ≡ true → b ≡ true → (a && (b && true)) ≡ true
pair a b h g = and_from a (b && true) h (and_from b true g refl)

unpair : (a b : Bool) → (a && (b && true)) ≡ true → (a ≡ true) × (b ≡ true)
unpair a b h = let d = and_parts a (b && true) h in (d.0, (and_parts b true d.1).0)

-- TREES in which no name is that object
abbrev mutual
  pub only_others : Role → Tree → Bool
  only_others r (node k l fs) = name_other r k l && (is_name_kind k || others_in (role_at r k l fs) fs)

  pub others_in : (ℕ → Role) → Fields → Bool
  others_in roles done = true
  others_in roles (f then fs) = others_by (roles zero) f && others_in (λ i. roles (suc i)) fs

  pub others_by : Role → Field → Bool
  others_by r missing = true
  others_by r (one t) = only_others r t
  others_by r (many ts) = others_among r ts
  others_by r (statements ts) = others_among r ts

  pub others_among : Role → Trees → Bool
  others_among r empty = true
  others_among r (t before ts) = only_others r t && others_among r ts

or_so : (a b c : Bool) → (a || b) ≡ true → (b ≡ true → c ≡ true) → (a || c) ≡ true
or_so true b c h f = refl
or_so false b c h f = f h

-- where no member is one of it, nothing is called by that name
none_called : (k : AstType) (l : Label) (fs : Fields) (o : Option Helper) → used_helper k l fs ≡ o → all_in_fields no_helper_member fs ≡ true → (roles : ℕ → Role) → copies_in (copies o) roles fs ≡ true → copies_in false roles fs ≡ true
none_called k l fs None e c roles h = h
none_called k l fs (Some g) e c roles h = at (helper_shape k l fs g e) c roles h
  where
    at : {k : AstType} {l : Label} {fs : Fields} → HelperCall g k l fs → all_in_fields no_helper_member fs ≡ true → (roles : ℕ → Role) → copies_in (copies (Some g)) roles fs ≡ true → copies_in false roles fs ≡ true
    at (helper_called {j = j} {i = i} {m = m} {gs = gs} {hs = hs} {fs = fs} mark a b object name) c roles h =
        let member : not (bytes_eq (first_text i.texts) helpers_) ≡ true = (and_parts (not (bytes_eq (first_text i.texts) helpers_)) _ (and_parts (all_nodes no_helper_member (node MemberExpression j (one (node Identifier i gs) then (one (node Identifier m hs) then done)))) (all_in_fields no_helper_member fs) c).0).0 in
        absurd (let no : not (bytes_eq helpers_ helpers_) ≡ true = subst (λ (x : Text). not (bytes_eq x helpers_) ≡ true) object member in cc no)
    at (helper_passed {f = f} {t = t} {fs = fs} e) c roles h = subst (λ (q : Bool). copies_in q roles (one f then (many (t before empty) then fs)) ≡ true) (handed_other _ g e) h

mutual
  pub others_of : (r : Role) (t : Tree) → only_copies r t ≡ true → all_nodes no_helper_member t ≡ true → only_others r t ≡ true
  others_of r (node k l fs) h c =
      let roles = role_at r k l fs in
      let d = and_parts (name_other r k l) (is_name_kind k || copies_in (copies (used_helper k l fs)) roles fs) h in
      let apart = (and_parts (no_helper_member k l fs) (all_in_fields no_helper_member fs) c).1 in
      and_from (name_other r k l) (is_name_kind k || others_in roles fs) d.0 (or_so (is_name_kind k) (copies_in (copies (used_helper k l fs)) roles fs) (others_in roles fs) d.1 (λ g. others_fields roles fs (none_called k l fs (used_helper k l fs) refl apart roles g) apart))

  others_fields : (roles : ℕ → Role) (fs : Fields) → copies_in false roles fs ≡ true → all_in_fields no_helper_member fs ≡ true → others_in roles fs ≡ true
  others_fields roles done h c = refl
  others_fields roles (f then fs) h c =
      let d = and_parts (copies_by (roles zero) f) (copies_in false (λ i. roles (suc i)) fs) h in
      let e = and_parts (all_in_field no_helper_member f) (all_in_fields no_helper_member fs) c in
      and_from (others_by (roles zero) f) (others_in (λ i. roles (suc i)) fs) (others_field (roles zero) f d.0 e.0) (others_fields (λ i. roles (suc i)) fs d.1 e.1)

  others_field : (r : Role) (f : Field) → copies_by r f ≡ true → all_in_field no_helper_member f ≡ true → others_by r f ≡ true
  others_field r missing h c = refl
  others_field r (one t) h c = others_of r t h c
  others_field r (many ts) h c = others_list r ts h c
  others_field r (statements ts) h c = others_list r ts h c

  others_list : (r : Role) (ts : Trees) → copies_among r ts ≡ true → all_in_trees no_helper_member ts ≡ true → others_among r ts ≡ true
  others_list r empty h c = refl
  others_list r (t before ts) h c =
      let d = and_parts (only_copies r t) (copies_among r ts) h in
      let e = and_parts (all_nodes no_helper_member t) (all_in_trees no_helper_member ts) c in
      and_from (only_others r t) (others_among r ts) (others_of r t d.0 e.0) (others_list r ts d.1 e.1)

mutual
  pub copies_of : (r : Role) (t : Tree) → only_others r t ≡ true → only_copies r t ≡ true
  copies_of r (node k l fs) h =
      let roles = role_at r k l fs in
      let d = and_parts (name_other r k l) (is_name_kind k || others_in roles fs) h in
      and_from (name_other r k l) (is_name_kind k || copies_in (copies (used_helper k l fs)) roles fs) d.0 (or_so (is_name_kind k) (others_in roles fs) (copies_in (copies (used_helper k l fs)) roles fs) d.1 (λ g. any_copies (copies (used_helper k l fs)) roles fs (copies_fields roles fs g)))

  copies_fields : (roles : ℕ → Role) (fs : Fields) → others_in roles fs ≡ true → copies_in false roles fs ≡ true
  copies_fields roles done h = refl
  copies_fields roles (f then fs) h =
      let d = and_parts (others_by (roles zero) f) (others_in (λ i. roles (suc i)) fs) h in
      and_from (copies_by (roles zero) f) (copies_in false (λ i. roles (suc i)) fs) (copies_field (roles zero) f d.0) (copies_fields (λ i. roles (suc i)) fs d.1)

  copies_field : (r : Role) (f : Field) → others_by r f ≡ true → copies_by r f ≡ true
  copies_field r missing h = refl
  copies_field r (one t) h = copies_of r t h
  copies_field r (many ts) h = copies_list r ts h
  copies_field r (statements ts) h = copies_list r ts h

  copies_list : (r : Role) (ts : Trees) → others_among r ts ≡ true → copies_among r ts ≡ true
  copies_list r empty h = refl
  copies_list r (t before ts) h = let d = and_parts (only_others r t) (others_among r ts) h in and_from (only_copies r t) (copies_among r ts) (copies_of r t d.0) (copies_list r ts d.1)

-- WHAT ROWS OF NODES KEEP

copies_parens : (r : Role) (t : Tree) → only_copies r t ≡ true → only_copies r (without_parens t) ≡ true
copies_parens r (node ParenthesizedExpression l (one t then fs)) h = copies_parens r t (and_parts (only_copies r t) (copies_in false (λ i. role_at r ParenthesizedExpression l (one t then fs) (suc i)) fs) h).0
copies_parens r (node ParenthesizedExpression l done) h = h
copies_parens r (node ParenthesizedExpression l (missing then fs)) h = h
copies_parens r (node ParenthesizedExpression l (many ts then fs)) h = h
copies_parens r (node ParenthesizedExpression l (statements ts then fs)) h = h
copies_parens r (node _ l fs) h = h

pub copies_keep : Keeps (λ r t. only_copies r t ≡ true) (λ ts. copies_among reads ts ≡ true) (λ x. bytes_eq x helpers_ ≡ false)
copies_keep = record {
  parens = copies_parens;
  fresh = fresh_other;
  name = λ r x h. and_from (is_nothing r || not (bytes_eq x.name helpers_)) true (or_more (is_nothing r) (not (bytes_eq x.name helpers_)) (not_both (bytes_eq x.name helpers_) h)) refl;
  again = λ op r l h. and_from (name_other r Identifier l) true (or_more (is_nothing r) (not (bytes_eq (first_text l.texts) helpers_)) (and_parts (not (bytes_eq (first_text l.texts) helpers_)) true h).0) refl;
  key = λ x. refl;
  math = refl;
  null = refl;
  nothing = refl;
  this = refl;
  yes = refl;
  member = λ r l o p h g. pair (only_copies reads o) (only_copies (key_in l) p) h g;
  of_member = λ r l o p h. unpair (only_copies reads o) (only_copies (key_in l) p) h;
  assigned = λ r l a b h g. pair (only_copies (target_of (first_text l.texts)) a) (only_copies reads b) h g;
  of_assigned = λ r l a b h. unpair (only_copies (target_of (first_text l.texts)) a) (only_copies reads b) h;
  logical = λ r l a b h g. pair (only_copies reads a) (only_copies reads b) h g;
  binary = λ r l a b h g. pair (only_copies reads a) (only_copies reads b) h g;
  of_binary = λ r l a b h. unpair (only_copies reads a) (only_copies reads b) h;
  conditional = λ r l a b c h g f. and_from (only_copies reads a) (only_copies reads b && (only_copies reads c && true)) h (pair (only_copies reads b) (only_copies reads c) g f);
  called = λ r l f ts h g. node_copies r CallExpression l (one f then (many ts then done)) refl (any_copies (copies (used_helper CallExpression l (one f then (many ts then done)))) (role_at r CallExpression l (one f then (many ts then done))) (one f then (many ts then done)) (pair (only_copies reads f) (copies_among reads ts) h g));
  none = refl;
  more = λ t ts h g. and_from (only_copies reads t) (copies_among reads ts) h g;
  first = λ t ts h. (and_parts (only_copies reads t) (copies_among reads ts) h).0;
  rest = λ t ts h. (and_parts (only_copies reads t) (copies_among reads ts) h).1;
  sequence = λ r l ts h. and_from (copies_among reads ts) true h refl;
  unary = λ r l e h. and_from (only_copies reads e) true h refl;
  of_unary = λ r l e h. (and_parts (only_copies reads e) true h).0;
  of_chain = λ r l e h. (and_parts (only_copies reads e) true h).0;
}

-- AND THAT OF CHAINS

others_parens : (r : Role) (t : Tree) → only_others r t ≡ true → only_others r (without_parens t) ≡ true
others_parens r (node ParenthesizedExpression l (one t then fs)) h = others_parens r t (and_parts (only_others r t) (others_in (λ i. role_at r ParenthesizedExpression l (one t then fs) (suc i)) fs) h).0
others_parens r (node ParenthesizedExpression l done) h = h
others_parens r (node ParenthesizedExpression l (missing then fs)) h = h
others_parens r (node ParenthesizedExpression l (many ts then fs)) h = h
others_parens r (node ParenthesizedExpression l (statements ts then fs)) h = h
others_parens r (node _ l fs) h = h

pub others_keep : Keeps (λ r t. only_others r t ≡ true) (λ ts. others_among reads ts ≡ true) (λ x. bytes_eq x helpers_ ≡ false)
others_keep = record {
  parens = others_parens;
  fresh = fresh_other;
  name = λ r x h. and_from (is_nothing r || not (bytes_eq x.name helpers_)) true (or_more (is_nothing r) (not (bytes_eq x.name helpers_)) (not_both (bytes_eq x.name helpers_) h)) refl;
  again = λ op r l h. and_from (name_other r Identifier l) true (or_more (is_nothing r) (not (bytes_eq (first_text l.texts) helpers_)) (and_parts (not (bytes_eq (first_text l.texts) helpers_)) true h).0) refl;
  key = λ x. refl;
  math = refl;
  null = refl;
  nothing = refl;
  this = refl;
  yes = refl;
  member = λ r l o p h g. pair (only_others reads o) (only_others (key_in l) p) h g;
  of_member = λ r l o p h. unpair (only_others reads o) (only_others (key_in l) p) h;
  assigned = λ r l a b h g. pair (only_others (target_of (first_text l.texts)) a) (only_others reads b) h g;
  of_assigned = λ r l a b h. unpair (only_others (target_of (first_text l.texts)) a) (only_others reads b) h;
  logical = λ r l a b h g. pair (only_others reads a) (only_others reads b) h g;
  binary = λ r l a b h g. pair (only_others reads a) (only_others reads b) h g;
  of_binary = λ r l a b h. unpair (only_others reads a) (only_others reads b) h;
  conditional = λ r l a b c h g f. and_from (only_others reads a) (only_others reads b && (only_others reads c && true)) h (pair (only_others reads b) (only_others reads c) g f);
  called = λ r l f ts h g. pair (only_others reads f) (others_among reads ts) h g;
  none = refl;
  more = λ t ts h g. and_from (only_others reads t) (others_among reads ts) h g;
  first = λ t ts h. (and_parts (only_others reads t) (others_among reads ts) h).0;
  rest = λ t ts h. (and_parts (only_others reads t) (others_among reads ts) h).1;
  sequence = λ r l ts h. and_from (others_among reads ts) true h refl;
  unary = λ r l e h. and_from (only_others reads e) true h refl;
  of_unary = λ r l e h. (and_parts (only_others reads e) true h).0;
  of_chain = λ r l e h. (and_parts (only_others reads e) true h).0;
}

pub assigning_kept : (n : Site) (w : Whole) (bs : List Bound) (t u : Tree) → LogicalAssignmentRule n w bs t u → (r : Role) → only_copies r t ≡ true → only_copies r u ≡ true
assigning_kept = assigning_keeps (λ r t. only_copies r t ≡ true) (λ ts. copies_among reads ts ≡ true) (λ x. bytes_eq x helpers_ ≡ false) copies_keep

pub raising_kept : (n : Site) (w : Whole) (bs : List Bound) (t u : Tree) → ExponentiationRule n w bs t u → (r : Role) → only_copies r t ≡ true → only_copies r u ≡ true
raising_kept = raising_keeps (λ r t. only_copies r t ≡ true) (λ ts. copies_among reads ts ≡ true) (λ x. bytes_eq x helpers_ ≡ false) copies_keep (λ k h. refl)

pub chaining_kept : (no_all : Bool) (n : Site) (w : Whole) (bs : List Bound) (t u : Tree) → OptionalChainingRule no_all n w bs t u → Nameless t → (r : Role) → only_copies r t ≡ true → only_copies r u ≡ true
chaining_kept no_all n w bs t u h nameless r c =
    copies_of r u (chaining_keeps (λ r t. only_others r t ≡ true) (λ ts. others_among reads ts ≡ true) (λ x. bytes_eq x helpers_ ≡ false) others_keep (λ r l f ts g. unpair (only_others reads f) (others_among reads ts) g) no_all n w bs t u h r
    (others_of r t c (chain-apart no_all n w bs t u h nameless)))
