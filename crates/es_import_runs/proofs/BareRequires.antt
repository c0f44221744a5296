-- Ids and marks say nothing of the names by which a script requires helpers.
use Rattle.std.proofs.Common.{◌≡◌, ◌∙◌, refl, sym, [], ◌++◌}
use Rattle.std.specs.Prelude.{◌&&◌, Bool, true, false, not, codes, if◌then◌else◌, nat_eq}
use Rattle.es_tree.specs.Bare.{bare, bare_fields, bare_trees}
use Rattle.es_tree.specs.Fresh.{is_among}
use Rattle.es_tree.specs.Names.{first_text}
use Rattle.es_tree.specs.Scopes.{own_text, target_names}
use Rattle.es_tree.specs.Tree.{Tree, node, Fields, done, ◌then◌, missing, one, many, statements, Trees, empty, ◌before◌}
use Rattle.es_tree.specs.Words.{Text}
use Rattle.es_tree.specs.declared.ast_type.AstType.{AstType}
use Rattle.es_tree.specs.declared.ast_type.AstType.TheVariants.{ArrayTarget, AssignmentExpression, CallExpression, ForInStatement, ForOfStatement, Identifier, ParenthesizedExpression, StringLiteral, TargetProperty, TargetRest, TargetWithDefault, UpdateExpression, VariableDeclaration, VariableDeclarator}
use Rattle.es_statement_runs.specs.Helpers.{declarators_helpers, helper_in, helper_names, if_settled, is_settled, is_unwritten, named_helper, occurrences, program_list, required_helper, required_helpers, targets_in, writes_of}
use Rattle.es_statement_runs.specs.Helpers.Supply.{by_require}
use Rattle.es_statement_runs.specs.Names.{declared_at_top, is_word, names_of_all}
use Rattle.es_statement_steps.proofs.BareRuns.{list-bare}
use Rattle.es_statement_steps.proofs.BareScopes.{declared-bare}
use Rattle.es_statement_steps.proofs.BareTests.{fields-bare}
use Rattle.es_import_runs.proofs.UnwrittenNames.{Unwritten}

-- WRITES

target_bare : (t : Tree) → target_names (bare t) ≡ target_names t
target_bare (node Identifier l fs) = refl
target_bare (node ParenthesizedExpression l (one t then fs)) = target_bare t
target_bare (node ParenthesizedExpression l done) = refl
target_bare (node ParenthesizedExpression l (missing then fs)) = refl
target_bare (node ParenthesizedExpression l (many ts then fs)) = refl
target_bare (node ParenthesizedExpression l (statements ts then fs)) = refl
target_bare (node _ l fs) = refl

targets_bare : (fs : Fields) → targets_in (bare_fields fs) ≡ targets_in fs
targets_bare done = refl
targets_bare (missing then fs) = targets_bare fs
targets_bare (one t then fs) = λ i. target_bare t i ++ targets_bare fs i
targets_bare (many ts then fs) = targets_bare fs
targets_bare (statements ts then fs) = targets_bare fs

writes_bare : (k : AstType) (fs : Fields) → writes_of k (bare_fields fs) ≡ writes_of k fs
writes_bare AssignmentExpression (one t then fs) = target_bare t
writes_bare UpdateExpression (one t then fs) = target_bare t
writes_bare ForInStatement (one t then fs) = target_bare t
writes_bare ForOfStatement (one t then fs) = target_bare t
writes_bare TargetProperty (f then (one t then fs)) = target_bare t
writes_bare ArrayTarget fs = targets_bare fs
writes_bare TargetWithDefault (one t then fs) = target_bare t
writes_bare TargetRest (one t then fs) = target_bare t
writes_bare _ fs = refl

and_true : (b : Bool) → b ≡ (b && true)
and_true true = refl
and_true false = refl

unwritten_bare : (x : Text) (p : Tree) → is_unwritten x (bare p) ≡ is_unwritten x p
unwritten_bare x p =
    and_true (is_unwritten x (bare p)) ∙ fields-bare (Unwritten x) (λ k l fs j. not (is_among (writes_bare k fs j) x)) (one p then done) ∙ sym (and_true (is_unwritten x p))

settled_bare : (x : Text) (p : Tree) → is_settled x (bare p) ≡ is_settled x p
settled_bare x p = λ j. nat_eq (occurrences x (names_of_all (declared-bare p j))) 1 && unwritten_bare x p j

-- NAMES

text_bare : (t : Tree) → own_text (bare t) ≡ own_text t
text_bare (node k l fs) = refl

module _ (m : Text) (p : Tree) where
  helper_bare : (d : Tree) → required_helper m (bare p) (bare d) ≡ required_helper m p d
  helper_bare (node VariableDeclarator l (one x then (one (node CallExpression c (one (node Identifier j gs) then (many (node StringLiteral i hs before empty) then done))) then done))) =
      (λ k. if_settled (is_word (codes "require") (first_text j.texts) && is_settled (text_bare x k) (bare p)) (named_helper (text_bare x k) (helper_in m (first_text i.texts)))) ∙
      (λ k. if_settled (is_word (codes "require") (first_text j.texts) && settled_bare (own_text x) p k) (named_helper (own_text x) (helper_in m (first_text i.texts))))
  helper_bare _ = refl

  declarators_bare : (ds : Trees) → declarators_helpers m (bare p) (bare_trees ds) ≡ declarators_helpers m p ds
  declarators_bare empty = refl
  declarators_bare (d before ds) = λ j. helper_bare d j ++ declarators_bare ds j

  requires_bare : (ts : Trees) → required_helpers m (bare p) (bare_trees ts) ≡ required_helpers m p ts
  requires_bare empty = refl
  requires_bare (node VariableDeclaration l (many ds then fs) before ts) = λ j. declarators_bare ds j ++ requires_bare ts j
  requires_bare (node VariableDeclaration l done before ts) = requires_bare ts
  requires_bare (node VariableDeclaration l (missing then fs) before ts) = requires_bare ts
  requires_bare (node VariableDeclaration l (one t then fs) before ts) = requires_bare ts
  requires_bare (node VariableDeclaration l (statements us then fs) before ts) = requires_bare ts
  requires_bare (node _ l fs before ts) = requires_bare ts

pub required_bare : (m : Text) (p : Tree) → helper_names (by_require m) (bare p) ≡ helper_names (by_require m) p
required_bare m p =
    (λ j. if is_among (names_of_all (declared-bare p j)) (codes "require") then [] else required_helpers m (bare p) (list-bare p j)) ∙
    (λ j. if is_among (names_of_all (declared_at_top p)) (codes "require") then [] else requires_bare m p (program_list p) j)
