-- Where no `using` stands a tree stays as it is, and no number is taken.
use Rattle.std.proofs.Common.{◌≡◌, ◌∙◌, ℕ, suc, refl, ap, List, [], ◌∷◌}
use Rattle.std.specs.Prelude.{Bool, true, false, ◌&&◌, ◌||◌, not, Option, Some, bytes_eq, codes, if◌then◌else◌}
use Rattle.std.proofs.lemmas.Bool.{or_parts}
use Rattle.es_tree.specs.Constructs.{is_using}
use Rattle.es_tree.specs.Names.{first_text}
use Rattle.es_tree.specs.Tree.{Tree, node, Label, Fields, done, ◌then◌, Field, missing, one, many, statements, Trees, empty, ◌before◌}
use Rattle.es_tree.specs.Walks.{any_in_field, any_in_fields, any_in_trees, any_node}
use Rattle.es_tree.specs.Words.{Text}
use Rattle.es_tree.specs.declared.ast_type.AstType.{AstType}
use Rattle.es_tree.specs.declared.ast_type.AstType.TheVariants.{ArrowFunctionExpression, BlockStatement, ForStatement, FunctionBody, FunctionDeclaration, FunctionExpression, LabeledStatement, StaticBlock, SwitchCase, SwitchStatement, VariableDeclaration}
use Rattle.es_steps.specs.UsingBlocks.{has_using, is_using_node}
use Rattle.es_steps.specs.UsingSwitches.{case_has_using, some_case_has_using}
use Rattle.es_using_rows.specs.Laws.{LawStays}
use Rattle.es_using_rows.specs.Used.{Makes, used, used_among, used_by, used_here, used_in, used_node}
use Rattle.es_using_rows.specs.UsingPlaces.{are_used, are_used_cases, have_values, is_labelled, is_used, is_using_word, leads_to_head, may_enter, standing_in, uses_here, uses_in_arrow, uses_in_body, uses_in_function, uses_in_head, uses_in_static_block}
use Rattle.es_using_rows.specs.declared.standing.Standing.{Standing}

-- TESTS

none-itself : (t : Tree) → any_node is_using t ≡ false → is_using_node t ≡ false
none-itself (node k l fs) h = (or_parts (is_using k l fs) (any_in_fields is_using fs) h).0

none-direct : (ts : Trees) → any_in_trees is_using ts ≡ false → has_using ts ≡ false
none-direct empty h = refl
none-direct (t before ts) h = let d = or_parts (any_node is_using t) (any_in_trees is_using ts) h in ap (λ (b : Bool). b || has_using ts) (none-itself t d.0) ∙ none-direct ts d.1

none-in-field : (f : Field) (fs : Fields) → any_in_fields is_using (f then fs) ≡ false → any_in_field is_using f ≡ false
none-in-field f fs h = (or_parts (any_in_field is_using f) (any_in_fields is_using fs) h).0

none-after : (f : Field) (fs : Fields) → any_in_fields is_using (f then fs) ≡ false → any_in_fields is_using fs ≡ false
none-after f fs h = (or_parts (any_in_field is_using f) (any_in_fields is_using fs) h).1

none-in-case : (t : Tree) → any_node is_using t ≡ false → case_has_using t ≡ false
none-in-case (node SwitchCase l (f then statements ts then done)) h = none-direct ts (none-in-field (statements ts) done (none-after f (statements ts then done) h))
none-in-case _ h = refl

none-in-cases : (ts : Trees) → any_in_trees is_using ts ≡ false → some_case_has_using ts ≡ false
none-in-cases empty h = refl
none-in-cases (t before ts) h = let d = or_parts (any_node is_using t) (any_in_trees is_using ts) h in ap (λ (b : Bool). b || some_case_has_using ts) (none-in-case t d.0) ∙ none-in-cases ts d.1

pub no-word : (xs : List (Option Text)) → bytes_eq (first_text xs) (codes "using") ≡ false → is_using_word xs ≡ false
no-word (Some x ∷ []) h = h
no-word _ h = refl

none-used : (t : Tree) → is_using_node t ≡ false → is_used t ≡ false
none-used (node VariableDeclaration l (many (d before ds) then done)) h = ap (λ (b : Bool). b && have_values (d before ds)) (no-word l.texts h)
none-used _ h = refl

none-in-head : (fs : Fields) → any_in_fields is_using fs ≡ false → uses_in_head fs ≡ false
none-in-head (one t then f then g then h then done) e = none-used t (none-itself t (none-in-field (one t) (f then g then h then done) e))
none-in-head _ e = refl

none-leads : (t : Tree) → any_node is_using t ≡ false → leads_to_head t ≡ false
none-leads (node ForStatement l fs) h = none-in-head fs h
none-leads (node LabeledStatement l (one t then one u then done)) h = none-leads u (none-in-field (one u) done (none-after (one t) (one u then done) h))
none-leads _ h = refl

none-in-body : (ps : Trees) (b : Tree) → any_node is_using b ≡ false → uses_in_body ps b ≡ false
none-in-body ps (node FunctionBody l (many ds then statements ts then done)) h = ap (λ (b : Bool). b && are_used ts && may_enter ps ts) (none-direct ts (none-in-field (statements ts) done (none-after (many ds) (statements ts then done) h)))
none-in-body ps _ h = refl

none-in-function : (fs : Fields) → any_in_fields is_using fs ≡ false → uses_in_function fs ≡ false
none-in-function (f then many ps then one b then done) h = none-in-body ps b (none-in-field (one b) done (none-after (many ps) (one b then done) (none-after f (many ps then one b then done) h)))
none-in-function _ h = refl

none-in-arrow : (fs : Fields) → any_in_fields is_using fs ≡ false → uses_in_arrow fs ≡ false
none-in-arrow (many ps then one b then done) h = none-in-body ps b (none-in-field (one b) done (none-after (many ps) (one b then done) h))
none-in-arrow _ h = refl

none-in-static-block : (fs : Fields) → any_in_fields is_using fs ≡ false → uses_in_static_block fs ≡ false
none-in-static-block (statements ts then done) h = ap (λ (b : Bool). b && are_used ts && may_enter empty ts) (none-direct ts (none-in-field (statements ts) done h))
none-in-static-block _ h = refl

and-none : (b c : Bool) → c ≡ false → (b && c) ≡ false
and-none true c h = h
and-none false c h = refl

none-here : (s : Standing) (k : AstType) (l : Label) (fs : Fields) → any_in_fields is_using fs ≡ false → uses_here s k l fs ≡ false
none-here s BlockStatement l (statements ts then done) h = ap (λ (b : Bool). b && are_used ts) (none-direct ts (none-in-field (statements ts) done h))
none-here s SwitchStatement l (d then many cs then done) h = ap (λ (b : Bool). b && are_used_cases cs) (none-in-cases cs (none-in-field (many cs) done (none-after d (many cs then done) h)))
none-here s ForStatement l fs h = and-none (not (is_labelled s)) (uses_in_head fs) (none-in-head fs h)
none-here s LabeledStatement l fs h = and-none (not (is_labelled s)) (leads_to_head (node LabeledStatement l fs)) (none-leads (node LabeledStatement l fs) h)
none-here s FunctionDeclaration l fs h = none-in-function fs h
none-here s FunctionExpression l fs h = none-in-function fs h
none-here s ArrowFunctionExpression l fs h = none-in-arrow fs h
none-here s StaticBlock l fs h = none-in-static-block fs h
none-here s _ l _ h = refl

-- A TREE

module _ (m : Makes) where
  mutual
    pub tree-stays : (s : Standing) (n : ℕ) (t : Tree) → any_node is_using t ≡ false → used m s n t ≡ (n, t)
    tree-stays s n (node k l fs) e =
        let h = or_parts (is_using k l fs) (any_in_fields is_using fs) e in
        ap (λ (r : ℕ × Fields). used_here m s r.0 k l r.1) (fields-stay (standing_in k) n fs h.1) ∙ ap (λ (b : Bool). if b then (suc n, used_node m s n k l fs) else (n, node k l fs)) (none-here s k l fs h.1)

    pub fields-stay : (c : ℕ → Standing) (n : ℕ) (fs : Fields) → any_in_fields is_using fs ≡ false → used_in m c n fs ≡ (n, fs)
    fields-stay c n done e = refl
    fields-stay c n (f then fs) e =
        let h = or_parts (any_in_field is_using f) (any_in_fields is_using fs) e in
        ap (λ (r : ℕ × Field). ((used_in m (λ i. c (suc i)) r.0 fs).0, r.1 then (used_in m (λ i. c (suc i)) r.0 fs).1)) (field-stays (c 0) n f h.0) ∙ ap (λ (r : ℕ × Fields). (r.0, f then r.1)) (fields-stay (λ i. c (suc i)) n fs h.1)

    pub field-stays : (s : Standing) (n : ℕ) (f : Field) → any_in_field is_using f ≡ false → used_by m s n f ≡ (n, f)
    field-stays s n missing e = refl
    field-stays s n (one t) e = ap (λ (r : ℕ × Tree). (r.0, one r.1)) (tree-stays s n t e)
    field-stays s n (many ts) e = ap (λ (r : ℕ × Trees). (r.0, many r.1)) (trees-stay s n ts e)
    field-stays s n (statements ts) e = ap (λ (r : ℕ × Trees). (r.0, statements r.1)) (trees-stay s n ts e)

    pub trees-stay : (s : Standing) (n : ℕ) (ts : Trees) → any_in_trees is_using ts ≡ false → used_among m s n ts ≡ (n, ts)
    trees-stay s n empty e = refl
    trees-stay s n (t before ts) e =
        let h = or_parts (any_node is_using t) (any_in_trees is_using ts) e in
        ap (λ (r : ℕ × Tree). ((used_among m s r.0 ts).0, r.1 before (used_among m s r.0 ts).1)) (tree-stays s n t h.0) ∙ ap (λ (r : ℕ × Trees). (r.0, t before r.1)) (trees-stay s n ts h.1)

pub law_stays_proof : LawStays
law_stays_proof m s n t e = tree-stays m s n t e
