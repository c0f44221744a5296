-- Answers to whole programs.
use Rattle.std.proofs.Common.{◌≡◌, List, [], ◌∷◌, ◌++◌, Result, Ok, Err, MatchResult, IfErr, refl}
use Rattle.std.specs.HashMap.{IsEmpty}
use Rattle.std.specs.Result.{IsErrAnd}
use Rattle.es_tree.specs.Ancestors.{Visit, visits}
use Rattle.es_tree.specs.CoreStaticRules.{Break}
use Rattle.es_tree.specs.DeclaredNames.{Name, declared}
use Rattle.es_tree.specs.StaticRules.{IsFirstBreak, breaks_after}
use Rattle.es_tree.specs.Tree.{Tree}
use Rattle.es_tree.specs.declared.error.LowerError.{LowerError}
use Rattle.es_tree.specs.declared.error.Rule.{Rule}
use Rattle.es_static_rules.specs.Checks.{Checks, Knows, Names}
use Rattle.es_static_rules.specs.Outward.{outward}
use Rattle.es_static_rules.specs.declared.ancestors.Ancestor.{Ancestor as StackedAncestor}
use Rattle.es_static_rules.proofs.Outward.{outward-none}
use Rattle.es_static_rules.proofs.Walks.{IsFirstBreak-more}

-- an empty map knows no names
pub Knows-none : {S : Type 0} (names : Names S) → IsEmpty names → Knows names []
Knows-none names e = λ k. rw e refl

pub outward-empty : (stack : List StackedAncestor) → stack ≡ [] → outward stack ≡ []
outward-empty stack e = rw e (outward-none [] refl)

-- a walk from nothing on is one over the program
pub Checks-whole : {S T A : Type 0} (rules : List Rule) (known : Names S) (start new : Names T) (stack : List StackedAncestor) (r : Result A LowerError) (t : Tree) → stack ≡ [] → Checks rules known start new r (visits (outward stack) 0 t) → Checks rules known start new r (visits [] 0 t)
Checks-whole rules known start new stack r t e h = rw (← outward-empty stack e) h

pub passed_on : {A : Type 0} (P : A → Type 0) (r : Result A LowerError) (e : LowerError) (bs : List Break) → IsErrAnd r (λ x. x ≡ e) → IsFirstBreak bs e → MatchResult r P (IsFirstBreak bs)
passed_on P (Ok u) e bs h first = absurd h
passed_on P (Err x) e bs h first = rw h first

pub passed_by : {A : Type 0} (r : Result A LowerError) (e : LowerError) (bs : List Break) → IsErrAnd r (λ x. x ≡ e) → IsFirstBreak bs e → IfErr r (IsFirstBreak bs)
passed_by (Ok u) e bs h first = absurd h
passed_by (Err x) e bs h first = rw h first

-- no rules are no broken ones, so want of memory is the only error
no_rules : (all earlier : List Name) (vs : List Visit) → breaks_after [] all earlier vs ≡ []
no_rules all earlier [] = refl
no_rules all earlier (v ∷ vs) = no_rules all (declared v.ancestors v.tree ++ earlier) vs

pub memory_alone : (all earlier : List Name) (vs : List Visit) (bs : List Break) (e : LowerError) → IsFirstBreak (breaks_after [] all earlier vs) e → IsFirstBreak bs e
memory_alone all earlier vs bs e h = IsFirstBreak-more [] bs e (rw (← no_rules all earlier vs) h)
