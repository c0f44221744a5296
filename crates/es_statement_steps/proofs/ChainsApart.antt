-- Optional chaining keeps runs beside object spread where no member in the chain is one of the object of helpers: both sides mean what they do without helpers.
use Rattle.std.proofs.Common.{◌≡◌, ℕ, zero, suc, refl, sym, ap, subst, ◌∙◌, List}
use Rattle.std.proofs.lemmas.Bool.{and_from, and_parts}
use Rattle.std.specs.Prelude.{Bool, true, not, ◌||◌, bytes_eq, codes}
use Rattle.es_tree.specs.Fresh.{candidate}
use Rattle.es_tree.specs.Parens.{without_parens}
use Rattle.es_tree.specs.Scopes.{Declared}
use Rattle.es_tree.specs.Tree.{Tree, node, Label, Fields, done, ◌then◌, missing, one, many, statements}
use Rattle.es_tree.specs.Walks.{all_in_fields, all_nodes}
use Rattle.es_tree.specs.Words.{Text}
use Rattle.es_tree.specs.declared.ast_type.AstType.{AstType}
use Rattle.es_tree.specs.declared.ast_type.AstType.TheVariants.{ChainExpression, Identifier, MemberExpression, ParenthesizedExpression, VariableDeclarator}
use Rattle.es_runs.specs.Alike.{SameWorld}
use Rattle.es_runs.specs.Core.{World}
use Rattle.es_runs.specs.OptionalChaining.{is_chain_kind}
use Rattle.es_resolution.specs.Declarations.{Bound}
use Rattle.es_resolution.specs.Resolved.{Resolved}
use Rattle.es_steps.specs.CoreBridge.{names_among}
use Rattle.es_steps.specs.Duplication.{is_alone}
use Rattle.es_steps.specs.OptionalChaining.{OptionalChainingRule}
use Rattle.es_steps.specs.OptionalChaining.OptionalChainingRule.{as_callee, by_tests, in_delete}
use Rattle.es_steps.specs.Steps.{Site, Whole}
use Rattle.es_statement_runs.specs.Alike.{Quiet, SenseLike, StackSeen}
use Rattle.es_statement_runs.specs.Helpers.Supply.{no_helpers, spread_by_global}
use Rattle.es_statement_runs.specs.Kinds.{sense}
use Rattle.es_statement_runs.specs.Laws.{among_names}
use Rattle.es_statement_runs.specs.Places.{Take, avoids, placed_at}
use Rattle.es_statement_runs.specs.Senses.{Sense}
use Rattle.es_statement_runs.proofs.AkinSupplies.{Apart, apart-sense}
use Rattle.es_statement_runs.specs.HelperMembers.{is_helpers_object, no_helper_member}
use Rattle.es_statement_steps.proofs.Chainings.{ChainingRow, chaining-shape}
use Rattle.es_statement_steps.proofs.FoundNames.{Finds}
use Rattle.es_statement_steps.proofs.MadeOf.{PassesMade, chaining-of, is_made_kind}
use Rattle.es_statement_steps.proofs.OperandSteps.{ChainSteady, chaining-keeps-steady}
use Rattle.es_statement_steps.proofs.Premises.{RowWith}
use Rattle.es_statement_steps.proofs.RowRuns.{WorldsKnown, bad_temporaries, temporaries_frame}
use Rattle.es_statement_steps.proofs.StepMoves.{Fine, taken_at}

-- no member in a chain is one of that object
abbrev pub no_helper_in_chain : AstType → Label → Fields → Bool
no_helper_in_chain k l fs = not (is_chain_kind k) || all_in_fields no_helper_member fs

-- WHAT THE ROW MAKES is no member of it

abbrev pub other_name : Text → Bool
other_name x = not (bytes_eq x (codes "babelHelpers"))

abbrev pub other_object : Tree → Bool
other_object t = not (is_helpers_object t)

fresh-other : (text : Text) (n : ℕ) → other_name (candidate text n) ≡ true
fresh-other text zero = refl
fresh-other text (suc n) = refl

object-parens : (t : Tree) → is_helpers_object (without_parens t) ≡ is_helpers_object t
object-parens (node ParenthesizedExpression l (one t then fs)) = object-parens t
object-parens (node ParenthesizedExpression l done) = refl
object-parens (node ParenthesizedExpression l (missing then fs)) = refl
object-parens (node ParenthesizedExpression l (many ts then fs)) = refl
object-parens (node ParenthesizedExpression l (statements ts then fs)) = refl
object-parens (node _ l fs) = refl

pub other-passes : PassesMade other_name other_object no_helper_member
other-passes = record {
  nodes = nodes;
  members = λ l o fs h. h;
  names = λ l h. refl;
  objects = λ l o fs h. h;
  made_objects = objects;
  member_objects = λ l fs. refl;
  name_objects = λ l h. h;
  parens = λ t h. ap not (object-parens t) ∙ h;
  chains = λ t c l h e. ap not (sym (ap is_helpers_object e) ∙ object-parens t) ∙ h;
  fresh = fresh-other;
  math = refl;
  pow = refl;
  call = refl;
  bind = refl;
}
  where
    nodes : (k : AstType) (l : Label) (fs : Fields) → is_made_kind k ≡ true → no_helper_member k l fs ≡ true
    nodes MemberExpression l fs h = absurd (cc h)
    nodes _ l fs h = refl

    objects : (k : AstType) (l : Label) (fs : Fields) → is_made_kind k ≡ true → other_object (node k l fs) ≡ true
    objects Identifier l fs h = absurd (cc h)
    objects ParenthesizedExpression l fs h = absurd (cc h)
    objects ChainExpression l fs h = absurd (cc h)
    objects VariableDeclarator l fs h = absurd (cc h)
    objects _ l fs h = refl

-- THE ROW where no member is one of it

pub apart-keeps : (no_all : Bool) (new : List Bound) (n : Site) (whole : Whole) (a b : Tree) → RowWith (ChainingRow no_all) (chaining-shape no_all) ChainSteady new n whole a b → Apart a → (t : Take) → t ≡ taken_at n.above → (ds : List Declared) → Resolved n.role n.names a → Finds ds n.names → Fine a → avoids (bad_temporaries (names_among new)) t a ≡ true →
    Quiet (temporaries_frame true (names_among new)) → StackSeen (temporaries_frame true (names_among new)) → (w v : World) → SameWorld (among_names (names_among new)) w v → WorldsKnown no_all true (names_among new) ds w v → (ls : List Text) (x : Text) →
    SenseLike (temporaries_frame true (names_among new)) w v t (sense (placed_at spread_by_global w ls x) a) (sense (placed_at spread_by_global v ls x) b)
apart-keeps no_all new n whole a b h apart t taken ds resolved found fine away quiet stack w v same known ls x =
    let after : Apart b = chaining-of other_name other_object no_helper_member other-passes no_all n whole new a b h.0.rule apart in
    let F = temporaries_frame true (names_among new) in
    subst (λ (e : Sense). SenseLike F w v t e (sense (placed_at spread_by_global v ls x) b)) (sym (apart-sense a apart w ls x))
    (subst (λ (e : Sense). SenseLike F w v t (sense (placed_at no_helpers w ls x) a) e) (sym (apart-sense b after v ls x))
    ((chaining-keeps-steady no_all).alike new n whole a b h t taken ds resolved found fine away quiet stack tt w v same known ls x))

-- where none in a chain is, none is where a chain is lowered

apart-inside : (t : Tree) (l : Label) (fs : Fields) → is_alone t ≡ true → without_parens t ≡ node ChainExpression l fs → all_nodes no_helper_in_chain t ≡ true → Apart t
apart-inside (node ParenthesizedExpression m (one t then done)) l fs a e h = and_from (all_nodes no_helper_member t) true (apart-inside t l fs a e (and_parts (all_nodes no_helper_in_chain t) true h).0) refl
apart-inside (node ParenthesizedExpression m (one t then (f then gs))) l fs a e h = absurd (cc a)
apart-inside (node ParenthesizedExpression m done) l fs a e h = absurd (cc e)
apart-inside (node ParenthesizedExpression m (missing then gs)) l fs a e h = absurd (cc e)
apart-inside (node ParenthesizedExpression m (many ts then gs)) l fs a e h = absurd (cc e)
apart-inside (node ParenthesizedExpression m (statements ts then gs)) l fs a e h = absurd (cc e)
apart-inside (node ChainExpression m gs) l fs a e h = (and_parts (all_in_fields no_helper_member gs) (all_in_fields no_helper_in_chain gs) h).0
apart-inside (node _ m gs) l fs a e h = absurd (cc e)

pub chain-apart : (no_all : Bool) (n : Site) (w : Whole) (bs : List Bound) (t u : Tree) → OptionalChainingRule no_all n w bs t u → all_nodes no_helper_in_chain t ≡ true → Apart t
chain-apart no_all n w bs _ _ (by_tests {m = m} {e = e} level r some) h = (and_parts (all_in_fields no_helper_member (one e then done)) (all_in_fields no_helper_in_chain (one e then done)) h).0
chain-apart no_all n w bs _ _ (as_callee {m = m} {e = e} level r some callee) h = (and_parts (all_in_fields no_helper_member (one e then done)) (all_in_fields no_helper_in_chain (one e then done)) h).0
chain-apart no_all n w bs _ _ (in_delete {m = m} {l = l} {t = t} {e = e} texts alone target r some) h = and_from (all_nodes no_helper_member t) true (apart-inside t l (one e then done) alone target (and_parts (all_nodes no_helper_in_chain t) true h).0) refl
