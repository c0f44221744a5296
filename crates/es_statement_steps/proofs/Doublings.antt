-- Rows by symbols are rows by names: what is written again is told by the symbol that a name finds at the place.
use Rattle.std.proofs.Common.{◌≡◌, ℕ, refl, sym, ap, subst, ◌∙◌, List, [], ◌∷◌, ◌++◌}
use Rattle.std.specs.Prelude.{Bool, true, false, ◌&&◌, Option, if◌then◌else◌}
use Rattle.es_tree.specs.Fresh.{also}
use Rattle.es_tree.specs.Names.{first_text, flag_at}
use Rattle.es_tree.specs.Parens.{without_parens}
use Rattle.es_tree.specs.Tree.{Tree, node, Label, done, ◌then◌, missing, one, many, statements}
use Rattle.es_tree.specs.Words.{Text}
use Rattle.es_tree.specs.declared.ast_type.AstType.TheVariants.{Identifier, MemberExpression, ParenthesizedExpression}
use Rattle.es_runs.specs.Duplication.{has_no_fields, is_read_again as is_read_again_by_name, IsDuplicated as IsDuplicatedByName}
use Rattle.es_runs.specs.Duplication.IsDuplicated.{read_again as plain_read_again, by_temporary as plain_by_temporary}
use Rattle.es_runs.specs.NullishCoalescing.{also_all as also_names}
use Rattle.es_runs.specs.Rules.{assign_node}
use Rattle.es_runs.specs.Runs.{identifier as identifier_called}
use Rattle.es_semantic.specs.RolesOf.{reads, refers, role_at}
use Rattle.es_semantic.specs.declared.place.Role.{Role}
use Rattle.es_semantic.specs.declared.place.Role.TheVariants.{Nothing}
use Rattle.es_resolution.specs.Declarations.{Bound, symbol_of}
use Rattle.es_resolution.specs.Resolved.{Place, Resolved, place_in}
use Rattle.es_steps.specs.CoreBridge.{names_among}
use Rattle.es_steps.specs.Duplication.{IsDuplicated, is_among_symbols, is_read_again}
use Rattle.es_steps.specs.Duplication.IsDuplicated.{read_again, by_temporary}
use Rattle.es_steps.specs.Rules.{also_all}
use Rattle.es_steps.specs.Steps.{Whole}
use Rattle.es_statement_steps.proofs.SameSenses.{SameSense}

-- NAMES IN USE

pub also-same : (bs : List Bound) (f : Text → Bool) → also_all bs f ≡ also_names (names_among bs) f
also-same bs f = λ i y. at bs f y i
  where
    at : (bs : List Bound) (f : Text → Bool) (y : Text) → also_all bs f y ≡ also_names (names_among bs) f y
    at [] f y = refl
    at (b ∷ bs) f y = at bs (also b.name f) y

pub names-both : (xs ys : List Bound) → names_among (xs ++ ys) ≡ names_among xs ++ names_among ys
names-both [] ys = refl
names-both (x ∷ xs) ys = ap (λ zs. x.name ∷ zs) (names-both xs ys)

-- SYMBOLS

-- a name alone has the symbol that it finds
abbrev pub FindsOwn : (Text → Option ℕ) → Tree → Type 0
FindsOwn look (node Identifier l fs) = symbol_of l ≡ look (first_text l.texts)
FindsOwn look (node k l fs) = Unit {0}

pub reads-own : (p : Place) (t : Tree) → Resolved reads p t → FindsOwn p.scope t
reads-own p (node Identifier l fs) h = h.0
reads-own p (node _ l fs) h = tt

-- the object of a member, and its key where that is computed
pub record MemberFinds (look : Text → Option ℕ) (l : Label) (o k : Tree) : Type 0 where
  pub object : FindsOwn look o
  pub key : flag_at 0 l.flags ≡ true → FindsOwn look k

abbrev MemberParts : (Text → Option ℕ) → Tree → Type 0
MemberParts look (node MemberExpression l (one o then (one k then done))) = MemberFinds look l o k
MemberParts look t = Unit {0}

key-found : (b : Bool) (p : Place) (k : Tree) → Resolved (if b then reads else Nothing) p k → b ≡ true → FindsOwn p.scope k
key-found true p k h e = reads-own p k h
key-found false p k h e = absurd (cc e)

pub member-found : (r : Role) (p : Place) (t : Tree) (l : Label) (o k : Tree) → Resolved r p t → without_parens t ≡ node MemberExpression l (one o then (one k then done)) → MemberFinds p.scope l o k
member-found r p (node ParenthesizedExpression m (one t then fs)) l o k h e = member-found r (place_in p ParenthesizedExpression m (role_at r ParenthesizedExpression m (one t then fs)) (one t then fs) 0) t l o k h.2.0 e
member-found r p (node ParenthesizedExpression m done) l o k h e = absurd (cc e)
member-found r p (node ParenthesizedExpression m (missing then fs)) l o k h e = absurd (cc e)
member-found r p (node ParenthesizedExpression m (many ts then fs)) l o k h e = absurd (cc e)
member-found r p (node ParenthesizedExpression m (statements ts then fs)) l o k h e = absurd (cc e)
member-found r p (node MemberExpression m (one a then (one b then done))) l o k h e =
    subst (λ (u : Tree). MemberParts p.scope u) e (record { object = reads-own (place_in p MemberExpression m (role_at r MemberExpression m (one a then (one b then done))) (one a then (one b then done)) 0) a h.2.0; key = key-found (flag_at 0 m.flags) (place_in p MemberExpression m (role_at r MemberExpression m (one a then (one b then done))) (one a then (one b then done)) 1) b h.2.1.0 })
member-found r p (node _ m fs) l o k h e = absurd (cc e)

-- a target without its parentheses
abbrev pub TargetFinds : (Text → Option ℕ) → Tree → Type 0
TargetFinds look (node Identifier l fs) = symbol_of l ≡ look (first_text l.texts)
TargetFinds look (node MemberExpression l (one o then (one k then done))) = MemberFinds look l o k
TargetFinds look t = Unit {0}

pub target-found : (a b : Bool) (p : Place) (t : Tree) → Resolved (refers a b) p t → TargetFinds p.scope (without_parens t)
target-found a b p (node ParenthesizedExpression m (one t then fs)) h = target-found a b (place_in p ParenthesizedExpression m (role_at (refers a b) ParenthesizedExpression m (one t then fs)) (one t then fs) 0) t h.2.0
target-found a b p (node ParenthesizedExpression m done) h = tt
target-found a b p (node ParenthesizedExpression m (missing then fs)) h = tt
target-found a b p (node ParenthesizedExpression m (many ts then fs)) h = tt
target-found a b p (node ParenthesizedExpression m (statements ts then fs)) h = tt
target-found a b p (node Identifier m fs) h = h.0
target-found a b p (node MemberExpression m (one o then (one k then done))) h = member-found (refers a b) p (node MemberExpression m (one o then (one k then done))) m o k h refl
target-found a b p (node MemberExpression m done) h = tt
target-found a b p (node MemberExpression m (missing then fs)) h = tt
target-found a b p (node MemberExpression m (many ts then fs)) h = tt
target-found a b p (node MemberExpression m (statements ts then fs)) h = tt
target-found a b p (node MemberExpression m (one o then done)) h = tt
target-found a b p (node MemberExpression m (one o then (missing then fs))) h = tt
target-found a b p (node MemberExpression m (one o then (many ts then fs))) h = tt
target-found a b p (node MemberExpression m (one o then (statements ts then fs))) h = tt
target-found a b p (node MemberExpression m (one o then (one k then (f then fs)))) h = tt
target-found a b p (node _ m fs) h = tt

-- DUPLICATION

module _ (w : Whole) (look : Text → Option ℕ) where
  -- the names that nothing writes
  abbrev pub steady_names : Text → Bool
  steady_names x = is_among_symbols w.steady (look x)

  pub again-same : (t : Tree) → FindsOwn look t → is_read_again_by_name steady_names t ≡ is_read_again (is_among_symbols w.steady) t
  again-same (node Identifier l fs) h = λ i. is_among_symbols w.steady (sym h i) && has_no_fields fs
  again-same (node _ l fs) h = refl

pub record Doubled (steady in_use : Text → Bool) (xs : List Bound) (e e1 e2 : Tree) : Type 0 where
  pub begun : Tree
  pub again : Tree
  pub rule : IsDuplicatedByName steady in_use (names_among xs) e begun again
  pub first_same : SameSense begun e1
  pub again_same : SameSense again e2

pub doubled : (v : Whole) (look : Text → Option ℕ) → (xs : List Bound) (e e1 e2 : Tree) → IsDuplicated v xs e e1 e2 → FindsOwn look e → Doubled (steady_names v look) v.in_use xs e e1 e2
doubled v look xs e e1 e2 (read_again again) h = record { begun = e; again = e; rule = plain_read_again (again-same v look e h ∙ again); first_same = λ p. refl; again_same = λ p. refl }
doubled v look xs e e1 e2 (by_temporary {x = x} again next) h = record {
  begun = assign_node (identifier_called x.name) e;
  again = identifier_called x.name;
  rule = plain_by_temporary (again-same v look e h ∙ again) next.fresh;
  first_same = λ p. refl;
  again_same = λ p. refl;
}
