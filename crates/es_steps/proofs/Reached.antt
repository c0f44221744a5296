-- The names of what is reached are those of the source, with their symbols, and new ones.
use Rattle.std.proofs.Common.{◌≡◌, ℕ, refl, sym, subst, eq-eqb}
use Rattle.std.specs.Prelude.{Bool, true, false, ◌&&◌, ◌||◌, Option, Some, None, bytes_eq}
use Rattle.std.proofs.lemmas.Bool.{le-leb}
use Rattle.es_tree.specs.Words.{Text}
use Rattle.es_tree.specs.Names.{first_text}
use Rattle.es_tree.specs.References.{is_symbol}
use Rattle.es_tree.specs.Scopes.{name_in}
use Rattle.es_tree.specs.Tree.{Tree, node, Fields, done, ◌then◌, Field, missing, one, many, statements, Trees, empty, ◌before◌}
use Rattle.es_tree.specs.declared.ast_type.AstType.TheVariants.{Identifier, ClassDeclaration, ClassExpression}
use Rattle.es_resolution.specs.Declarations.{symbol_of}
use Rattle.es_steps.specs.AllRules.{AllRules}
use Rattle.es_steps.specs.Bindings.{is_it, stands, stands_in, stands_by, stands_among, is_made, comes_from}
use Rattle.es_steps.specs.Identifiers.{Passes, PassesIn, PassesBy, PassesAll, any_name}
use Rattle.es_steps.specs.Laws.{BindingsKeep, LawBindings}
use Rattle.es_steps.specs.Steps.{Whole, Ledger, Site, Spot}
use Rattle.es_resolution.proofs.Basics.{bytes_eq-self}
use Rattle.es_steps.proofs.BoundOnce.{bound-once}
use Rattle.es_steps.proofs.Laws.{all-rules-lawful, all-rules-write}
use Rattle.es_steps.proofs.StepsKept.{all-passed, all-recalled, none-beside, reached-keeps}
use Rattle.es_steps.proofs.Opened.{finished-opened}
use Rattle.es_steps.proofs.Taken.{Allows, Lawful, Writes}

or_left : (a b : Bool) → a ≡ true → (a || b) ≡ true
or_left a b e = λ i. e i || b

or_right : (a b : Bool) → b ≡ true → (a || b) ≡ true
or_right true b e = refl
or_right false b e = e

-- EACH NAME OF A TREE stands in it

module _ (q : Text → Option ℕ → Bool) (words : (x : Text) → q x None ≡ true) where
  own-stands : (x : Text) (o : Option ℕ) → ((m : ℕ) → (bytes_eq x x && is_symbol m o) ≡ true → q x (Some m) ≡ true) → q x o ≡ true
  own-stands x None f = words x
  own-stands x (Some m) f = f m (λ i. bytes_eq-self x i && eq-eqb m m refl i)

  mutual
    pub names-stand : (t : Tree) → ((x : Text) (m : ℕ) → stands x m t ≡ true → q x (Some m) ≡ true) → Passes any_name t → Passes q t
    names-stand (node Identifier l fs) f h = (own-stands (first_text l.texts) (symbol_of l) (λ m e. f (first_text l.texts) m (or_left (bytes_eq (first_text l.texts) (first_text l.texts) && is_symbol m (symbol_of l)) (stands_in (first_text l.texts) m fs) e)), names-stand-in fs (λ x m e. f x m (or_right (is_it x m Identifier l fs) (stands_in x m fs) e)) h.1)
    names-stand (node ClassDeclaration l fs) f h = ((h.0.0, own-stands (name_in fs) (symbol_of l) (λ m e. f (name_in fs) m (or_left (bytes_eq (name_in fs) (name_in fs) && is_symbol m (symbol_of l)) (stands_in (name_in fs) m fs) e))), names-stand-in fs (λ x m e. f x m (or_right (is_it x m ClassDeclaration l fs) (stands_in x m fs) e)) h.1)
    names-stand (node ClassExpression l fs) f h = ((h.0.0, own-stands (name_in fs) (symbol_of l) (λ m e. f (name_in fs) m (or_left (bytes_eq (name_in fs) (name_in fs) && is_symbol m (symbol_of l)) (stands_in (name_in fs) m fs) e))), names-stand-in fs (λ x m e. f x m (or_right (is_it x m ClassExpression l fs) (stands_in x m fs) e)) h.1)
    names-stand (node k l fs) f h = (h.0, names-stand-in fs (λ x m e. f x m (or_right (is_it x m k l fs) (stands_in x m fs) e)) h.1)

    names-stand-in : (fs : Fields) → ((x : Text) (m : ℕ) → stands_in x m fs ≡ true → q x (Some m) ≡ true) → PassesIn any_name fs → PassesIn q fs
    names-stand-in done f h = tt
    names-stand-in (g then fs) f h = (names-stand-by g (λ x m e. f x m (or_left (stands_by x m g) (stands_in x m fs) e)) h.0, names-stand-in fs (λ x m e. f x m (or_right (stands_by x m g) (stands_in x m fs) e)) h.1)

    names-stand-by : (g : Field) → ((x : Text) (m : ℕ) → stands_by x m g ≡ true → q x (Some m) ≡ true) → PassesBy any_name g → PassesBy q g
    names-stand-by missing f h = tt
    names-stand-by (one t) f h = names-stand t f h
    names-stand-by (many ts) f h = names-stand-all ts f h
    names-stand-by (statements ts) f h = names-stand-all ts f h

    names-stand-all : (ts : Trees) → ((x : Text) (m : ℕ) → stands_among x m ts ≡ true → q x (Some m) ≡ true) → PassesAll any_name ts → PassesAll q ts
    names-stand-all empty f h = tt
    names-stand-all (t before ts) f h = (names-stand t (λ x m e. f x m (or_left (stands x m t) (stands_among x m ts) e)) h.0, names-stand-all ts (λ x m e. f x m (or_right (stands x m t) (stands_among x m ts) e)) h.1)

-- what is written comes from the source, or is made
allows-made : (p : Tree) (w w' : Whole) → Allows (comes_from p w w') w w'
allows-made p w w' = record {
  words = λ x. refl;
  new = λ m e d. or_right (stands (w'.called m) m p) (is_made w w' (w'.called m) m) (λ i. le-leb w.free_symbol m e i && bytes_eq-self (w'.called m) i);
}

module _ (R : Site → Ledger → Spot → Ledger → Spot → Type 0) (law : Lawful R) (writes : Writes R) where
  pub bindings-keep : BindingsKeep R
  bindings-keep p q w w' k h steps =
      let reached = reached-keeps R law writes p q w w' k h steps in
      let start = names-stand (comes_from p w w') (λ x. refl) p (λ x m e. or_left (stands x m p) (is_made w w' x m) e) h.class_names in
      let names = all-passed R law writes (comes_from p w w') steps (allows-made p w w') (none-beside (comes_from p w w') w) (subst (λ (a : Tree). Passes (comes_from p w w') a) (sym (finished-opened p)) start) in
      record {
        names = subst (λ (a : Tree). Passes (comes_from p w w') a) (finished-opened q) names;
        called = reached.called;
        same_names = (all-recalled R law writes steps).same;
        resolved = reached.resolved;
        bound_once = bound-once q reached.resolved reached.single;
      }

pub law_bindings_proof : LawBindings
law_bindings_proof o = bindings-keep (AllRules o) (all-rules-lawful o) (all-rules-write o)
