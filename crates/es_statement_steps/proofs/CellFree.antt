-- No name in use is a cell of the machine's own: none of a valid program is, nor is one that steps make, since those begin with an underscore. So no name
-- of what steps reach is one.
use Rattle.std.proofs.Common.{inl, inr, ◌≡◌, ℕ, zero, suc, refl, ap, subst, List, [], ◌∷◌, ◌++◌}
use Rattle.std.proofs.lemmas.Bool.{and_from, and_parts}
use Rattle.std.specs.Prelude.{Bool, true, false, not, bytes_eq, codes, is_some, if◌then◌else◌}
use Rattle.es_tree.specs.Fresh.{also, is_among}
use Rattle.es_tree.specs.Names.{is_name_place, is_reexport, names_if, names_in_field, names_in_fields, names_in_trees, names_of, own_name}
use Rattle.es_tree.specs.Tree.{Tree, node, Label, Fields, done, ◌then◌, Field, missing, one, many, statements, Trees, empty, ◌before◌}
use Rattle.es_tree.specs.Walks.{all_in_field, all_in_fields, all_in_trees, all_nodes}
use Rattle.es_tree.specs.Words.{Text}
use Rattle.es_tree.specs.declared.ast_type.AstType.{AstType}
use Rattle.es_tree.specs.declared.ast_type.AstType.TheVariants.{Identifier}
use Rattle.es_tree.specs.declared.options.EnvOptions.{EnvOptions}
use Rattle.es_semantic.specs.declared.place.Role.{Role}
use Rattle.es_resolution.specs.Declarations.{Bound}
use Rattle.es_resolution.specs.Named.{Named}
use Rattle.es_resolution.proofs.Basics.{bytes_eq-equal}
use Rattle.es_resolution.proofs.MoreNames.{named-more}
use Rattle.es_steps.specs.CoreBridge.{first_whole, is_written_name, names_among}
use Rattle.es_steps.specs.CoreRules.{where_on}
use Rattle.es_steps.specs.NamespaceExports.{NamespaceRule}
use Rattle.es_steps.specs.NamespaceExports.NamespaceRule.{exports}
use Rattle.es_steps.specs.ObjectSpread.{SpreadRule}
use Rattle.es_steps.specs.Open.{Open, OpenField, OpenFields, OpenTrees}
use Rattle.es_steps.specs.OptionalCatch.{CatchRule}
use Rattle.es_steps.specs.OptionalCatch.CatchRule.{catches}
use Rattle.es_steps.specs.Rules.{Replacing, Writing, also_all, either_rule, next_name, with_made}
use Rattle.es_steps.specs.Rules.Replacing.{replaces}
use Rattle.es_steps.specs.Rules.Writing.{all_pending, body_declarators, declarators, insertions}
use Rattle.es_steps.specs.Steps.{FieldStep, FieldsStep, Ledger, Site, Spot, Step, TreesStep, Whole}
use Rattle.es_steps.specs.Steps.Spot.{at_beside, at_body, at_list, at_node, at_trees}
use Rattle.es_steps.specs.Steps.Step.{acts, inside}
use Rattle.es_steps.specs.Steps.FieldsStep.{in_first, in_later}
use Rattle.es_steps.specs.Steps.FieldStep.{acts_on_body, acts_on_list, in_body, in_child, in_children, in_list, in_program, in_target}
use Rattle.es_steps.specs.Steps.TreesStep.{acts_on_flanked, after_flanked, flanks, in_flanked, in_head, in_tail}
use Rattle.es_steps.specs.WrapRule.{WrapRule}
use Rattle.es_steps.specs.WrapRule.WrapRule.{wraps}
use Rattle.es_steps.proofs.Taken.{at-least, whole_in}
use Rattle.es_statement_runs.specs.Programs.{names_no_cell}
use Rattle.es_statement_runs.specs.Scopes.{are_program_names, is_own_cell}
use Rattle.es_statement_runs.proofs.OwnCells.{program_apart}
use Rattle.es_statement_steps.proofs.AloneRules.{alone}
use Rattle.es_statement_steps.proofs.Assignments.{assigning-shape}
use Rattle.es_statement_steps.proofs.Chainings.{chaining-shape}
use Rattle.es_statement_steps.proofs.Coalescings.{coalescing-shape}
use Rattle.es_statement_steps.proofs.MadeNames.{all_made, is_made_text, made_no_cell}
use Rattle.es_statement_steps.proofs.NewNames.{new-fresh}
use Rattle.es_statement_steps.proofs.PlacePremises.{either-true, is_no_cell}
use Rattle.es_statement_steps.proofs.Powers.{raising-shape}
use Rattle.es_statement_steps.proofs.Replacings.{RowShape}
use Rattle.es_statement_steps.proofs.SpreadRuns.{spread-shape}
use Rattle.es_statement_steps.proofs.StepMoves.{AreNew}

abbrev pub UsesNoCell : Whole → Type 0
UsesNoCell w = (x : Text) → w.in_use x ≡ true → is_no_cell x ≡ true

-- NAMES OF A PROGRAM

names-append : (xs ys : List Text) → are_program_names xs ≡ true → are_program_names ys ≡ true → are_program_names (xs ++ ys) ≡ true
names-append [] ys h g = g
names-append (x ∷ xs) ys h g = let d = and_parts (is_no_cell x) (are_program_names xs) h in and_from (is_no_cell x) (are_program_names (xs ++ ys)) d.0 (names-append xs ys d.1 g)

own-free : (counts : Bool) (k : AstType) (l : Label) (fs : Fields) → names_no_cell k l fs ≡ true → are_program_names (own_name counts k l) ≡ true
own-free true Identifier l fs h = and_from (names_no_cell Identifier l fs) true h refl
own-free true _ l fs h = refl
own-free false k l fs h = refl

unless-some : (b : Bool) (xs : List Text) → are_program_names xs ≡ true → are_program_names (if b then [] else xs) ≡ true
unless-some true xs h = refl
unless-some false xs h = h

mutual
  tree-free : (counts : Bool) (t : Tree) → all_nodes names_no_cell t ≡ true → are_program_names (names_if counts t) ≡ true
  tree-free counts (node k l fs) h =
      let d = and_parts (names_no_cell k l fs) (all_in_fields names_no_cell fs) h in
      let inner = names_in_fields (is_name_place k l) fs in
      names-append (own_name counts k l) (if is_reexport k fs then [] else inner) (own-free counts k l fs d.0) (unless-some (is_reexport k fs) inner (fields-free (is_name_place k l) fs d.1))

  fields-free : (counts : ℕ → Bool) (fs : Fields) → all_in_fields names_no_cell fs ≡ true → are_program_names (names_in_fields counts fs) ≡ true
  fields-free counts done h = refl
  fields-free counts (f then fs) h =
      let d = and_parts (all_in_field names_no_cell f) (all_in_fields names_no_cell fs) h in
      names-append (names_in_field (counts zero) f) (names_in_fields (λ n. counts (suc n)) fs) (field-free (counts zero) f d.0) (fields-free (λ n. counts (suc n)) fs d.1)

  field-free : (counts : Bool) (f : Field) → all_in_field names_no_cell f ≡ true → are_program_names (names_in_field counts f) ≡ true
  field-free counts missing h = refl
  field-free counts (one t) h = tree-free counts t h
  field-free counts (many ts) h = trees-free ts h
  field-free counts (statements ts) h = trees-free ts h

  trees-free : (ts : Trees) → all_in_trees names_no_cell ts ≡ true → are_program_names (names_in_trees ts) ≡ true
  trees-free empty h = refl
  trees-free (t before ts) h =
      let d = and_parts (all_nodes names_no_cell t) (all_in_trees names_no_cell ts) h in
      names-append (names_if true t) (names_in_trees ts) (tree-free true t d.0) (trees-free ts d.1)

among-free : (xs : List Text) → are_program_names xs ≡ true → (x : Text) → is_among xs x ≡ true → is_no_cell x ≡ true
among-free xs h x e = at (is_own_cell x) refl
  where
    at : (b : Bool) → is_own_cell x ≡ b → not b ≡ true
    at true g = absurd (let no : is_among xs x ≡ false = program_apart xs h x g in cc (no, e))
    at false g = refl

-- where steps begin
pub cells-start : (p : Tree) → all_nodes names_no_cell p ≡ true → UsesNoCell (first_whole p)
cells-start p h x e = either-true (is_among (names_of p) x) (is_written_name x) (is_no_cell x) (among-free (names_of p) (tree-free true p h) x) (among-free (codes "Math" ∷ codes "babelHelpers" ∷ codes "require" ∷ []) refl x) e

-- WHAT A STEP KEEPS OF THE WHOLE, from what each rule does

abbrev Keeps : (Whole → Type 0) → (Site → Ledger → Spot → Ledger → Spot → Type 0) → Type 0
Keeps P R = (n : Site) (s s' : Ledger) (x y : Spot) → R n s x s' y → P (whole_in s) → P (whole_in s')

module _ (P : Whole → Type 0) (R : Site → Ledger → Spot → Ledger → Spot → Type 0) (law : Keeps P R) where
  mutual
    pub whole-kept : {n : Site} {s s' : Ledger} {t u : Open} → Step R n s t s' u → P (whole_in s) → P (whole_in s')
    whole-kept (acts {n = n} {s = s} {s' = s'} t u h) = law n s s' (at_node t) (at_node u) h
    whole-kept (inside h) = kept-in h

    kept-in : {c : ℕ → Site} {s s' : Ledger} {fs gs : OpenFields} → FieldsStep R c s fs s' gs → P (whole_in s) → P (whole_in s')
    kept-in (in_first h) = kept-by h
    kept-in (in_later h) = kept-in h

    kept-by : {n : Site} {s s' : Ledger} {f g : OpenField} → FieldStep R n s f s' g → P (whole_in s) → P (whole_in s')
    kept-by (in_child h) = whole-kept h
    kept-by (in_children h) = kept-all h
    kept-by (in_body e y y' h) = whole-kept h
    kept-by (in_list d e h) = kept-all h
    kept-by (in_target e h) = kept-all h
    kept-by (in_program e h) = kept-all h
    kept-by (acts_on_body {n = n} {s = s} {s' = s'} {p = p} t u h) = law n s s' (at_body p t) (at_node u) h
    kept-by (acts_on_list {n = n} {s = s} {s' = s'} {p = p} {q = q} {x = x} {y = y} {a = a} {b = b} ts us h) = law n s s' (at_list p x a ts) (at_list q y b us) h

    kept-all : {n : Site} {s s' : Ledger} {ts us : OpenTrees} → TreesStep R n s ts s' us → P (whole_in s) → P (whole_in s')
    kept-all (in_head h) = whole-kept h
    kept-all (in_tail h) = kept-all h
    kept-all (in_flanked h) = whole-kept h
    kept-all (after_flanked h) = kept-all h
    kept-all (flanks {n = n} {s = s} {s' = s'} {bs = bs} {cs = cs} t u h) = law n s s' (at_node t) (at_beside bs u cs) h
    kept-all (acts_on_flanked {n = n} {s = s} {s' = s'} {bs = bs} {cs = cs} t us h) = law n s s' (at_beside bs t cs) (at_trees us) h

-- here of the names in use
abbrev Frees : (Site → Ledger → Spot → Ledger → Spot → Type 0) → Type 0
Frees R = Keeps UsesNoCell R

either-frees : {Q R : Site → Ledger → Spot → Ledger → Spot → Type 0} → Frees Q → Frees R → Frees (either_rule Q R)
either-frees f g n s s' x y (inl h) = f n s s' x y h
either-frees f g n s s' x y (inr h) = g n s s' x y h

on-frees : (b : Bool) {R : Site → Ledger → Spot → Ledger → Spot → Type 0} → Frees R → Frees (where_on b R)
on-frees true f n s s' x y h = f n s s' x y h
on-frees false f n s s' x y h = absurd h

writing-frees : Frees Writing
writing-frees n s s' x y (declarators) g = g
writing-frees n s s' x y (all_pending) g = g
writing-frees n s s' x y (body_declarators) g = g
writing-frees n s s' x y (insertions) g = g

wrap-frees : (o : EnvOptions) → Frees (WrapRule o)
wrap-frees o n s s' x y (wraps role e slot h) g = g

-- NAMES THAT RULES MAKE

also-free : (bs : List Bound) (f : Text → Bool) → all_made (names_among bs) ≡ true → ((x : Text) → f x ≡ true → is_no_cell x ≡ true) → (x : Text) → also_all bs f x ≡ true → is_no_cell x ≡ true
also-free [] f h g = g
also-free (b ∷ bs) f h g =
    let d = and_parts (is_made_text b.name) (all_made (names_among bs)) h in
    also-free bs (also b.name f) d.1 (λ y. either-true (f y) (bytes_eq b.name y) (is_no_cell y) (g y) (λ e. subst (λ (z : Text). is_no_cell z ≡ true) (bytes_eq-equal b.name y e) (ap not (made_no_cell b.name d.0))))

made-free : (w : Whole) (bs : List Bound) → AreNew w bs → UsesNoCell w → UsesNoCell (with_made bs w)
made-free w bs h = also-free bs w.in_use h.names

replacing-frees : (R : Site → Whole → List Bound → Tree → Tree → Type 0) → RowShape R → Frees (Replacing R)
replacing-frees R shape n s s' x y (replaces {w = w} {t = t} {u = u} bs h) = made-free w bs (shape.new_names n w bs t u h)

catch-frees : Frees CatchRule
catch-frees n s s' x y (catches {w = w} {x = name} fresh) = made-free w (next_name w name ∷ []) (new-fresh w (codes "unused") (next_name w name) fresh)

export-frees : Frees NamespaceRule
export-frees n s s' x y (exports {w = w} {x = name} list fresh quiet silent none) = made-free w (next_name w name ∷ []) (new-fresh w _ (next_name w name) fresh)

-- the rules that act on programs of which laws of runs speak
abbrev pub running_rules : EnvOptions → Site → Ledger → Spot → Ledger → Spot → Type 0
running_rules o = either_rule (alone o) (where_on o.es2020.export_namespace_from NamespaceRule)

rules-frees : (o : EnvOptions) → Frees (running_rules o)
rules-frees o =
    either-frees (either-frees
    (either-frees writing-frees
    (either-frees (wrap-frees o)
    (either-frees (on-frees o.es2021.logical_assignment_operators (replacing-frees _ assigning-shape))
    (either-frees (either-frees (on-frees o.es2020.nullish_coalescing_operator (replacing-frees _ coalescing-shape)) (on-frees o.es2020.optional_chaining (replacing-frees _ (chaining-shape o.assumptions.no_document_all))))
    (on-frees o.es2016.exponentiation_operator (replacing-frees _ raising-shape))))))
    (either-frees (on-frees o.es2019.optional_catch_binding catch-frees) (on-frees (is_some o.es2018.object_rest_spread) (replacing-frees SpreadRule spread-shape)))) (on-frees o.es2020.export_namespace_from export-frees)

-- a step
pub cells-step : (o : EnvOptions) {n : Site} {s s' : Ledger} {x y : Open} → Step (running_rules o) n s x s' y → UsesNoCell (whole_in s) → UsesNoCell (whole_in s')
cells-step o h = whole-kept UsesNoCell (running_rules o) (rules-frees o) h

-- WHERE NAMES ARE IN USE none is such a cell
pub cells-named : (w : Whole) → UsesNoCell w → (r : Role) (t : Tree) → Named w.in_use w.free_symbol r t → Named is_no_cell w.free_symbol r t
cells-named w h r t = named-more w.in_use is_no_cell h w.free_symbol w.free_symbol (at-least w.free_symbol) r t
