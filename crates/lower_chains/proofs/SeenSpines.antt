-- What the tests of nodes say is said of what is seen of them.
use Rattle.std.proofs.Common.{◌≡◌, ◌∙◌, ◌&&◌, refl, ap, List, [], ◌∷◌, map, ℕ}
use Rattle.std.specs.Prelude.{Bool, true, false, not, ◌||◌, Option, bytes_eq, codes}
use Rattle.es_resolution.specs.Seen.{seen, seen_in}
use Rattle.es_runs.specs.Core.{flag, flag_after}
use Rattle.es_runs.specs.Duplication.{has_no_fields}
use Rattle.es_runs.specs.OptionalChaining.{is_eval, is_link, is_member}
use Rattle.es_semantic.specs.NodeMarks.{symbol_mark}
use Rattle.es_steps.specs.OptionalChaining.{is_name_among}
use Rattle.es_tree.specs.Names.{first_text}
use Rattle.es_tree.specs.Tree.{Tree, node, Fields, done, ◌then◌, missing, one, many, statements}
use Rattle.es_tree.specs.Words.{Text}
use Rattle.es_tree.specs.declared.ast_type.AstType.TheVariants.{CallExpression, ChainExpression, Identifier, MemberExpression, ParenthesizedExpression, Super, ThisExpression, UnaryExpression}
use Rattle.lower_temporaries.specs.Parenthesized.{first_child}
use Rattle.lower_temporaries.specs.Shapes.{is_pair}
use Rattle.lower_temporaries.proofs.ReadAgain.{no_fields-seen}
use Rattle.lower_temporaries.proofs.TwoFields.{two-seen}
use Rattle.lower_chains.specs.Spines.{but_eval, calls_chain, deletes_chain, first_has_chain, first_has_mark, has_chain, has_mark, is_call_pair, is_call_step, is_content, is_delete, is_marked_chain, is_member_step, is_own_name, is_plain_call, is_plain_member, is_single, stands}
use Rattle.lower_chains.specs.Ways.{Names, to_this}

-- a name of these symbols stands alone
pub alone-among : (symbols : Option ℕ → Bool) (x : Text) (s : Option ℕ) (fs : Fields) → but_eval symbols x s ≡ true → (has_no_fields fs && symbols s && not (is_eval x)) ≡ has_no_fields fs
alone-among symbols x s fs = at (has_no_fields fs) (symbols s) (not (is_eval x)) where
  at : (a b c : Bool) → (b && c) ≡ true → (a && b && c) ≡ a
  at true true true h = refl
  at false true true h = refl
  at a true false h = absurd (cc h)
  at a false c h = absurd (cc h)

module _ (names : Names) where
  pub own_name-seen : (symbols : Option ℕ → Bool) (t : Tree) → is_name_among symbols (seen names t) ≡ is_own_name symbols t
  own_name-seen symbols (node Identifier l fs) = ap (λ b. b && symbols (symbol_mark l) && not (is_eval (first_text l.texts))) (no_fields-seen names fs)
  own_name-seen symbols (node _ l fs) = refl

  pub to_this-seen : (with_this : Bool) (t : Tree) → to_this with_this (seen names t) ≡ to_this with_this t
  to_this-seen true (node ThisExpression l fs) = no_fields-seen names fs
  to_this-seen true (node Super l fs) = no_fields-seen names fs
  to_this-seen true (node _ l fs) = refl
  to_this-seen false (node Super l fs) = no_fields-seen names fs
  to_this-seen false (node _ l fs) = refl

  pub link-seen : (t : Tree) → is_link (seen names t) ≡ is_link t
  link-seen (node MemberExpression l fs) = refl
  link-seen (node CallExpression l fs) = refl
  link-seen (node _ l fs) = refl

  pub member-seen : (t : Tree) → is_member (seen names t) ≡ is_member t
  member-seen (node MemberExpression l fs) = refl
  member-seen (node _ l fs) = refl

  single-seen : (fs : Fields) → is_single (seen_in names fs) ≡ is_single fs
  single-seen (one t then done) = refl
  single-seen (one t then (f then fs)) = refl
  single-seen (missing then fs) = refl
  single-seen (many ts then fs) = refl
  single-seen (statements ts then fs) = refl
  single-seen done = refl

  pair-seen : (fs : Fields) → is_pair (seen_in names fs) ≡ is_pair fs
  pair-seen = two-seen names (λ a b. true) (λ a b. refl)

  call_pair-seen : (fs : Fields) → is_call_pair (seen_in names fs) ≡ is_call_pair fs
  call_pair-seen (one t then (many u then done)) = refl
  call_pair-seen (one t then (many u then (f then fs))) = refl
  call_pair-seen (one t then (missing then fs)) = refl
  call_pair-seen (one t then (one ts then fs)) = refl
  call_pair-seen (one t then (statements ts then fs)) = refl
  call_pair-seen (one t then done) = refl
  call_pair-seen (missing then fs) = refl
  call_pair-seen (many ts then fs) = refl
  call_pair-seen (statements ts then fs) = refl
  call_pair-seen done = refl

  pub plain_member-seen : (t : Tree) → is_plain_member (seen names t) ≡ is_plain_member t
  plain_member-seen (node MemberExpression l fs) = ap (λ b. not (flag_after l.flags) && b) (pair-seen fs)
  plain_member-seen (node _ l fs) = refl

  pub member_step-seen : (t : Tree) → is_member_step (seen names t) ≡ is_member_step t
  member_step-seen (node MemberExpression l fs) = pair-seen fs
  member_step-seen (node _ l fs) = refl

  pub call_step-seen : (t : Tree) → is_call_step (seen names t) ≡ is_call_step t
  call_step-seen (node CallExpression l fs) = call_pair-seen fs
  call_step-seen (node _ l fs) = refl

  pub content-seen : (t : Tree) → is_content (seen names t) ≡ is_content t
  content-seen (node ChainExpression l fs) = single-seen fs
  content-seen (node _ l fs) = refl

  pub first_child-seen : (t : Tree) → first_child (seen names t) ≡ seen names (first_child t)
  first_child-seen (node k l (one t then fs)) = refl
  first_child-seen (node k l done) = refl
  first_child-seen (node k l (missing then fs)) = refl
  first_child-seen (node k l (many ts then fs)) = refl
  first_child-seen (node k l (statements ts then fs)) = refl

  pub stands-seen : (symbols : Option ℕ → Bool) (ts : List Tree) (t : Tree) → stands symbols ts t ≡ true → is_name_among symbols (seen names t) ≡ true
  stands-seen symbols [] t h = own_name-seen symbols t ∙ h
  stands-seen symbols (u ∷ us) t h = absurd (cc h)

  pub stands-not : (symbols : Option ℕ → Bool) (ts : List Tree) (t : Tree) → stands symbols ts t ≡ false → map (seen names) ts ≡ [] → is_name_among symbols (seen names t) ≡ false
  stands-not symbols [] t h e = own_name-seen symbols t ∙ h
  stands-not symbols (u ∷ us) t h e = absurd (cc e)

  pub stands-none : (symbols : Option ℕ → Bool) (ts : List Tree) (t : Tree) → stands symbols ts t ≡ true → map (seen names) ts ≡ []
  stands-none symbols [] t h = refl
  stands-none symbols (u ∷ us) t h = absurd (cc h)

  -- CHAINS

  mutual
    pub mark-seen : (t : Tree) → has_mark (seen names t) ≡ has_mark t
    mark-seen (node MemberExpression l fs) = λ i. pair-seen fs i && (flag_after l.flags || first_mark-seen fs i)
    mark-seen (node CallExpression l fs) = λ i. call_pair-seen fs i && (flag l.flags || first_mark-seen fs i)
    mark-seen (node _ l fs) = refl

    first_mark-seen : (fs : Fields) → first_has_mark (seen_in names fs) ≡ first_has_mark fs
    first_mark-seen (one t then fs) = mark-seen t
    first_mark-seen (missing then fs) = refl
    first_mark-seen (many ts then fs) = refl
    first_mark-seen (statements ts then fs) = refl
    first_mark-seen done = refl

  pub marked_chain-seen : (t : Tree) → is_marked_chain (seen names t) ≡ is_marked_chain t
  marked_chain-seen t = λ i. content-seen t i && (ap has_mark (first_child-seen t) ∙ mark-seen (first_child t)) i

  mutual
    pub chain-seen : (t : Tree) → has_chain (seen names t) ≡ has_chain t
    chain-seen (node ParenthesizedExpression l fs) = λ i. single-seen fs i && first_chain-seen fs i
    chain-seen (node ChainExpression l fs) = marked_chain-seen (node ChainExpression l fs)
    chain-seen (node _ l fs) = refl

    first_chain-seen : (fs : Fields) → first_has_chain (seen_in names fs) ≡ first_has_chain fs
    first_chain-seen (one t then fs) = chain-seen t
    first_chain-seen (missing then fs) = refl
    first_chain-seen (many ts then fs) = refl
    first_chain-seen (statements ts then fs) = refl
    first_chain-seen done = refl

  plain_call-seen : (t : Tree) → is_plain_call (seen names t) ≡ is_plain_call t
  plain_call-seen (node CallExpression l fs) = ap (λ b. not (flag l.flags) && b) (call_pair-seen fs)
  plain_call-seen (node _ l fs) = refl

  pub calls-seen : (t : Tree) → calls_chain (seen names t) ≡ calls_chain t
  calls-seen t = λ i. plain_call-seen t i && (ap has_chain (first_child-seen t) ∙ chain-seen (first_child t)) i

  delete-seen : (t : Tree) → is_delete (seen names t) ≡ is_delete t
  delete-seen (node UnaryExpression l fs) = ap (λ b. bytes_eq (first_text l.texts) (codes "delete") && b) (single-seen fs)
  delete-seen (node _ l fs) = refl

  pub deletes-seen : (t : Tree) → deletes_chain (seen names t) ≡ deletes_chain t
  deletes-seen t = λ i. delete-seen t i && (ap has_chain (first_child-seen t) ∙ chain-seen (first_child t)) i
