-- What is written of an expression that is read more than once.
use Rattle.std.proofs.Common.{arith, ◌≡◌, ℕ, refl, List, [], ◌∷◌, ◌++◌}
use Rattle.std.specs.Prelude.{Bool, true, false, ◌&&◌, Option, if◌then◌else◌}
use Rattle.es_tree.specs.Names.{flag_at}
use Rattle.es_tree.specs.Tree.{Tree, node, Label, done, ◌then◌, one, many, empty, ◌before◌}
use Rattle.es_tree.specs.declared.ast_type.AstType.TheVariants.{BigIntLiteral, BooleanLiteral, Identifier, MemberExpression, NullLiteral, NumericLiteral, StringLiteral, Super, TemplateElement, TemplateLiteral, ThisExpression}
use Rattle.es_semantic.specs.RolesOf.{reads}
use Rattle.es_semantic.specs.declared.place.Role.{Role}
use Rattle.es_semantic.specs.declared.place.Role.TheVariants.{Nothing}
use Rattle.es_resolution.specs.Declarations.{Bound, symbol_of, declared}
use Rattle.es_resolution.specs.Resolved.{Place}
use Rattle.es_steps.specs.Duplication.{IsDuplicated, is_among_symbols, is_read_again}
use Rattle.es_steps.specs.Duplication.IsDuplicated.{read_again, by_temporary}
use Rattle.es_steps.specs.Steps.{Whole}
use Rattle.es_steps.proofs.Kept.{Known, Each}
use Rattle.es_steps.proofs.Made.{Source, Fits, key_role, temporary, fits-stored, Counts, counts-self, counts-stored, Silent, silent-name, silent-temporary}
use Rattle.es_steps.proofs.Temporaries.{AreTaken, IsSeen, one-taken}

pub never-and : (b : Bool) → (b && false) ≡ true → ⊥
never-and true e = absurd (cc e)
never-and false e = absurd (cc e)

-- what is read again declares nothing and makes no scope
pub read-silent : (again : Option ℕ → Bool) (e : Tree) → is_read_again again e ≡ true → Silent reads e
read-silent again (node Identifier l done) e = silent-name _ l done refl
read-silent again (node Identifier l (f then fs)) e = absurd (never-and (again (symbol_of l)) e)
read-silent again (node ThisExpression l done) e = record { declares = λ v. refl; scopes = λ s. refl }
read-silent again (node Super l done) e = record { declares = λ v. refl; scopes = λ s. refl }
read-silent again (node NullLiteral l done) e = record { declares = λ v. refl; scopes = λ s. refl }
read-silent again (node BooleanLiteral l done) e = record { declares = λ v. refl; scopes = λ s. refl }
read-silent again (node NumericLiteral l done) e = record { declares = λ v. refl; scopes = λ s. refl }
read-silent again (node BigIntLiteral l done) e = record { declares = λ v. refl; scopes = λ s. refl }
read-silent again (node StringLiteral l done) e = record { declares = λ v. refl; scopes = λ s. refl }
read-silent again (node TemplateLiteral l (many (node TemplateElement k done before empty) then (many empty then done))) e = record { declares = λ v. at v; scopes = λ s. refl }
  where
    at : (v : Bool) → declared v reads (node TemplateLiteral l (many (node TemplateElement k done before empty) then (many empty then done))) ≡ []
    at true = refl
    at false = refl
read-silent again _ e = absurd (cc e)

pub duplicated-taken : (w : Whole) (xs : List Bound) (e e1 e2 : Tree) → IsDuplicated w xs e e1 e2 → AreTaken w.in_use w.free_symbol xs
duplicated-taken w xs e e1 e2 (read_again h) = tt
duplicated-taken w xs e e1 e2 (by_temporary {x = x} h k) = one-taken w _ x k

-- the first reading is as the expression, and the further one makes nothing
pub record Duplicates (n : Known) (b : Place) (source : Source) (e e1 e2 : Tree) : Type 0 where
  pub first : Fits n b source reads e1
  pub again : Fits n b source reads e2
  pub counts : Counts reads reads e e1
  pub silent : Silent reads e2

pub duplicated : (n : Known) (b : Place) (source : Source) (w : Whole) (xs : List Bound) (e e1 e2 : Tree) → IsDuplicated w xs e e1 e2 → Each (IsSeen n) xs → Fits n b source reads e → Duplicates n b source e e1 e2
duplicated n b source w xs e e1 e2 (read_again h) seen k = record { first = k; again = k; counts = counts-self reads e; silent = read-silent (is_among_symbols w.steady) e h }
duplicated n b source w xs e e1 e2 (by_temporary {x = x} h i) seen k = record { first = fits-stored n b source x e seen.0 k; again = temporary n b source _ x seen.0; counts = counts-stored x e; silent = silent-temporary _ x }

-- MEMBERS

pub key-role : (l : Label) (c m : Bool) → l.flags ≡ c ∷ m ∷ [] → key_role l ≡ (if c then reads else Nothing)
key-role l c m e = λ i. if flag_at 0 (e i) then reads else Nothing

pub counts-member : (r r' : Role) (l l' : Label) (o o1 k k1 : Tree) → Counts reads reads o o1 → Counts (key_role l) (key_role l') k k1 → Counts r r' (node MemberExpression l (one o then one k then done)) (node MemberExpression l' (one o1 then one k1 then done))
counts-member r r' l l' o o1 k k1 c d = record { declares = λ v. at v; scopes = λ s. let x = c.scopes s in let y = d.scopes s in omega arith }
  where
    at : (v : Bool) → declared v r' (node MemberExpression l' (one o1 then one k1 then done)) ≡ declared v r (node MemberExpression l (one o then one k then done))
    at true = λ i. c.declares true i ++ (d.declares true i ++ [])
    at false = λ i. c.declares false i ++ (d.declares false i ++ [])

pub silent-member : (r : Role) (l : Label) (o k : Tree) → Silent reads o → Silent (key_role l) k → Silent r (node MemberExpression l (one o then one k then done))
silent-member r l o k c d = record { declares = λ v. at v; scopes = λ s. let x = c.scopes s in let y = d.scopes s in omega arith }
  where
    at : (v : Bool) → declared v r (node MemberExpression l (one o then one k then done)) ≡ []
    at true = λ i. c.declares true i ++ (d.declares true i ++ [])
    at false = λ i. c.declares false i ++ (d.declares false i ++ [])
