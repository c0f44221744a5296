-- Namespace exports stand in the list of a program alone: the rule of module items wants a program directly around each of them, and below a
-- program stands no other.
use Rattle.std.proofs.Common.{◌≡◌, ◌==◌, ℕ, suc, refl, sym, ◌∙◌, List, [], ◌∷◌}
use Rattle.std.specs.Prelude.{Bool, true, false, not, ◌&&◌, ◌||◌}
use Rattle.std.proofs.lemmas.Bool.{and_parts}
use Rattle.es_tree.specs.Ancestors.{Ancestor, ancestor, is_module, stands_in}
use Rattle.es_tree.specs.Attributes.{child_entries}
use Rattle.es_tree.specs.Constructs.{is_namespace_export}
use Rattle.es_tree.specs.HasForm.{fields_form, same_type}
use Rattle.es_tree.specs.StaticRules.{is_misplaced_module_item, is_module_item}
use Rattle.es_tree.specs.Tree.{Tree, node, Label, Fields, done, ◌then◌, Field, missing, one, many, statements, Trees, empty, ◌before◌}
use Rattle.es_tree.specs.Walks.{any_node, any_in_field, any_in_fields, any_in_trees}
use Rattle.es_tree.specs.declared.ast_type.AstType.{AstType}
use Rattle.es_tree.specs.declared.ast_type.AstType.TheVariants.{ExportAllDeclaration, Program}
use Rattle.es_tree.specs.declared.table.Sort.TheVariants.{Program as s-Program}
use Rattle.es_tree.proofs.NodeForm.{node_form}
use Rattle.es_runs.proofs.Named.{or_both, or_first, or_second}
use Rattle.es_semantic.proofs.FormEdges.{Edges, EdgesAll, EdgesBy, EdgesIn, edges-inside, is_last}
use Rattle.es_valid_steps.specs.Laws.{LawNamespacePlaces, StandInList, any_inside, any_statement}
use Rattle.es_valid_steps.specs.PlaceRules.{Keeps, KeepsAll, KeepsBy, KeepsIn}
use Rattle.es_valid_steps.proofs.ProgramLists.{below, no-program, two-fields}
use Rattle.es_valid_steps.proofs.Visits.{law_places_proof}

-- a node below one that is no program is below no program's list
elsewhere : (k : AstType) (l : Label) (all : Fields) (i : ℕ) (up : List Ancestor) → not (same_type k Program) ≡ true → stands_in Program 1 (ancestor k l all i 0 ∷ up) ≡ false
elsewhere k l all i up h = at (same_type k Program) (i == 1) h
  where
    at : (a b : Bool) → not a ≡ true → (a && b) ≡ false
    at true b e = absurd (cc e)
    at false b e = refl

-- neither does a module item stand there
no-item : (up : List Ancestor) (k : AstType) (l : Label) (fs : Fields) → stands_in Program 1 up ≡ false → is_misplaced_module_item up (node k l fs) ≡ false → is_module_item k ≡ false
no-item up k l fs off kept =
    let placed : (is_module_item k && not (stands_in Program 1 up && is_module up)) ≡ (is_module_item k && true) = λ i. is_module_item k && not (off i && is_module up) in
    at (is_module_item k) (sym placed ∙ kept)
  where
    at : (b : Bool) → (b && true) ≡ false → b ≡ false
    at true e = e
    at false e = refl

-- WHATEVER ONLY MODULE ITEMS PASS

module _ (test : AstType → Label → Fields → Bool) (items : (k : AstType) (l : Label) (fs : Fields) → is_module_item k ≡ false → test k l fs ≡ false) where
  mutual
    none-in : (up : List Ancestor) (k : AstType) (i : ℕ) (last : Bool) (t : Tree) → stands_in Program 1 up ≡ false → Keeps up t → Edges below k i last t → any_node test t ≡ false
    none-in up k i last (node j l fs) off kept e = or_both (test j l fs) (any_in_fields test fs) (items j l fs (no-item up j l fs off kept.0.item)) (none-in-fields up j l fs 0 fs e.0 kept.1 e.1)

    -- in the fields of a node that is no program
    none-in-fields : (up : List Ancestor) (k : AstType) (l : Label) (all : Fields) (i : ℕ) (fs : Fields) → not (same_type k Program) ≡ true → KeepsIn up k l all i fs → EdgesIn below k i fs → any_in_fields test fs ≡ false
    none-in-fields up k l all i done other kept e = refl
    none-in-fields up k l all i (f then fs) other kept e =
        or_both (any_in_field test f) (any_in_fields test fs) (none-by (ancestor k l all i 0 ∷ up) k i (is_last fs) f (elsewhere k l all i up other) kept.0 e.0) (none-in-fields up k l all (suc i) fs other kept.1 e.1)

    none-by : (up : List Ancestor) (k : AstType) (i : ℕ) (last : Bool) (f : Field) → stands_in Program 1 up ≡ false → KeepsBy up f → EdgesBy below k i last f → any_in_field test f ≡ false
    none-by up k i last missing off kept e = refl
    none-by up k i last (one t) off kept e = none-in up k i last t off kept e
    none-by up k i last (many ts) off kept e = none-among up k i ts off kept e
    none-by up k i last (statements ts) off kept e = none-among up k i ts off kept e

    none-among : (up : List Ancestor) (k : AstType) (i : ℕ) (ts : Trees) → stands_in Program 1 up ≡ false → KeepsAll up ts → EdgesAll below k i ts → any_in_trees test ts ≡ false
    none-among up k i empty off kept e = refl
    none-among up k i (t before ts) off kept e = or_both (any_node test t) (any_in_trees test ts) (none-in up k i false t off kept.0 e.0) (none-among up k i ts off kept.1 e.1)

  -- none stands in a statement of a program
  none-inside : (up : List Ancestor) (ts : Trees) → KeepsAll up ts → EdgesAll below Program 1 ts → any_inside test ts ≡ false
  none-inside up empty kept e = refl
  none-inside up (node k l fs before ts) kept e = or_both (any_in_fields test fs) (any_inside test ts) (none-in-fields up k l fs 0 fs e.0.0 kept.0.1 e.0.1) (none-inside up ts kept.1 e.1)

  -- so that none stands there at all where none is a statement of its list
  none-listed : (ts : Trees) → any_inside test ts ≡ false → any_statement test ts ≡ false → any_in_trees test ts ≡ false
  none-listed empty h g = refl
  none-listed (node k l fs before ts) h g =
      or_both (test k l fs || any_in_fields test fs) (any_in_trees test ts)
      (or_both (test k l fs) (any_in_fields test fs) (or_first (test k l fs) (any_statement test ts) g) (or_first (any_in_fields test fs) (any_inside test ts) h))
      (none-listed ts (or_second (any_in_fields test fs) (any_inside test ts) h) (or_second (test k l fs) (any_statement test ts) g))

  stand-in-list : (l : Label) (fs : Fields) → fields_form Program l (child_entries Program) fs ≡ true → KeepsIn [] Program l fs 0 fs → EdgesIn below Program 0 fs → StandInList test (node Program l fs)
  stand-in-list l (d then (statements ts then done)) form kept e =
      let all : Fields = d then (statements ts then done) in
      let front : any_in_field test d ≡ false = none-by (ancestor Program l all 0 0 ∷ []) Program 0 false d refl kept.0 e.0 in
      let inside = none-inside (ancestor Program l all 1 0 ∷ []) ts kept.1.0 e.1.0 in
      record {
        inside = inside;
        none = λ h.
            or_both (test Program l all) (any_in_field test d || (any_in_trees test ts || false)) (items Program l all refl)
            (or_both (any_in_field test d) (any_in_trees test ts || false) front (or_both (any_in_trees test ts) false (none-listed ts inside h) refl));
      }
  stand-in-list l (d then (statements ts then (g then fs))) form kept e = absurd (let no : false ≡ true = (two-fields l d (statements ts) (g then fs) form).1 in cc no)
  stand-in-list l (d then (missing then fs)) form kept e = absurd (let no : false ≡ true = (two-fields l d missing fs form).0 in cc no)
  stand-in-list l (d then (one t then fs)) form kept e = absurd (let no : false ≡ true = (two-fields l d (one t) fs form).0 in cc no)
  stand-in-list l (d then (many ts then fs)) form kept e = absurd (let no : false ≡ true = (two-fields l d (many ts) fs form).0 in cc no)
  stand-in-list l (d then done) form kept e = absurd (let no : false ≡ true = (and_parts _ false form).1 in cc no)
  stand-in-list l done form kept e = absurd (cc form)

-- NAMESPACE EXPORTS

export-items : (on : Bool) (k : AstType) (l : Label) (fs : Fields) → is_module_item k ≡ false → (on && is_namespace_export k l fs) ≡ false
export-items on ExportAllDeclaration l fs e = absurd (cc e)
export-items on _ l fs e = off on
  where
    off : (b : Bool) → (b && false) ≡ false
    off true = refl
    off false = refl

pub law_namespace_places_proof : LawNamespacePlaces
law_namespace_places_proof on (node Program l fs) form kept =
    stand-in-list (λ k m gs. on && is_namespace_export k m gs) (export-items on) l fs (node_form s-Program Program l fs form).children ((law_places_proof (node Program l fs)).to_places kept).1 (edges-inside below no-program s-Program Program l fs form)
law_namespace_places_proof on (node k l fs) form kept = absurd (let no : false ≡ true = (node_form s-Program k l fs form).sort in cc no)
