-- The name by which a script requires a helper: its top declares that name once, and nothing writes it, so it stands for the helper, and no other name does.
use Rattle.std.proofs.Common.{arith, ◌≡◌, ◌∙◌, ◌+◌, ℕ, refl, sym, ap, List, [], ◌∷◌, ◌++◌}
use Rattle.std.proofs.lemmas.Bool.{and_from, and_parts}
use Rattle.std.specs.Prelude.{◌&&◌, ◌||◌, Bool, true, false, not, Option, Some, None, bytes_eq, codes, if◌then◌else◌, is_some, nat_eq}
use Rattle.es_tree.specs.Fresh.{is_among}
use Rattle.es_tree.specs.Names.{first_text}
use Rattle.es_tree.specs.Scopes.{Declared, own_text}
use Rattle.es_tree.specs.Tree.{Tree, node, Label, Fields, done, ◌then◌, one, many, Trees, empty, ◌before◌}
use Rattle.es_tree.specs.Walks.{all_in_fields, all_in_trees, all_nodes}
use Rattle.es_tree.specs.Words.{Text}
use Rattle.es_tree.specs.declared.ast_type.AstType.{AstType}
use Rattle.es_tree.specs.declared.ast_type.AstType.TheVariants.{CallExpression, Identifier, StringLiteral, VariableDeclaration, VariableDeclarator}
use Rattle.es_runs.specs.Core.{Silent, is_free}
use Rattle.es_runs.specs.Core.Binding.{changeable, constant}
use Rattle.es_runs.specs.Core.Silent.{helper_name}
use Rattle.es_runs.specs.Runs.{binding_of, is_declared, program, scope_of}
use Rattle.es_runs.proofs.Temporary.{bytes_eq-flip, bytes_eq-self}
use Rattle.es_steps.specs.Nodes.{joined_trees}
use Rattle.es_steps.specs.Open.{after_imports, is_import}
use Rattle.es_statement_runs.specs.Helpers.{declarators_helpers, helper_in, helper_names, if_settled, is_settled, is_unwritten, named_helper, occurrences, one_where, required_helper, required_helpers}
use Rattle.es_statement_runs.specs.Helpers.Supply.{by_require}
use Rattle.es_statement_runs.specs.Names.{is_word, names_of_all, top_in, top_names}
use Rattle.es_top_imports.specs.TopImports.{Import, require_of}
use Rattle.es_import_runs.specs.Laws.{no_helper_text}
use Rattle.es_import_runs.proofs.NoTexts.{none_so}
use Rattle.es_import_runs.proofs.Tops.{none_both}
use Rattle.es_import_runs.proofs.UnwrittenNames.{Unwritten}

-- WHERE NO LITERAL has the text of a helper's module, nothing requires one

module _ (m : Text) (p : Tree) where
  abbrev NoText : AstType → Label → Fields → Bool
  NoText = no_helper_text m

  -- the names of one statement
  abbrev own : Tree → List (Text × Silent)
  own (node VariableDeclaration l (many ds then fs)) = declarators_helpers m p ds
  own _ = []

  own_first : (t : Tree) (ts : Trees) → required_helpers m p (t before ts) ≡ own t ++ required_helpers m p ts
  own_first (node VariableDeclaration l (many ds then fs)) ts = refl
  own_first _ ts = refl

  unsettled : (b : Bool) → if_settled b [] ≡ []
  unsettled true = refl
  unsettled false = refl

  declarator_none : (t : Tree) → all_nodes NoText t ≡ true → required_helper m p t ≡ []
  declarator_none (node VariableDeclarator l (one x then (one (node CallExpression c (one (node Identifier j gs) then (many (node StringLiteral i hs before empty) then done))) then done))) h =
      let text : Tree = node StringLiteral i hs in
      let call : Tree = node CallExpression c (one (node Identifier j gs) then (many (text before empty) then done)) in
      let calls = (and_parts (all_nodes NoText call) true (and_parts (all_nodes NoText x) (all_nodes NoText call && true) h).1).0 in
      let texts = (and_parts (all_nodes NoText text && true) true (and_parts (all_nodes NoText (node Identifier j gs)) ((all_nodes NoText text && true) && true) calls).1).0 in
      let none : helper_in m (first_text i.texts) ≡ None = none_so (helper_in m (first_text i.texts)) (and_parts (not (is_some (helper_in m (first_text i.texts)))) (all_in_fields NoText hs) (and_parts (all_nodes NoText text) true texts).0).0 in
      ap (λ (o : Option Text). if_settled (is_word (codes "require") (first_text j.texts) && is_settled (own_text x) p) (named_helper (own_text x) o)) none ∙ unsettled (is_word (codes "require") (first_text j.texts) && is_settled (own_text x) p)
  declarator_none _ h = refl

  declarators_none : (ds : Trees) → all_in_trees NoText ds ≡ true → declarators_helpers m p ds ≡ []
  declarators_none empty h = refl
  declarators_none (d before ds) h = let e = and_parts (all_nodes NoText d) (all_in_trees NoText ds) h in λ i. declarator_none d e.0 i ++ declarators_none ds e.1 i

  own_none : (t : Tree) → all_nodes NoText t ≡ true → own t ≡ []
  own_none (node VariableDeclaration l (many ds then fs)) h = declarators_none ds (and_parts (all_in_trees NoText ds) (all_in_fields NoText fs) h).0
  own_none _ h = refl

  pub required_none : (ts : Trees) → all_in_trees NoText ts ≡ true → required_helpers m p ts ≡ []
  required_none empty h = refl
  required_none (t before ts) h = let d = and_parts (all_nodes NoText t) (all_in_trees NoText ts) h in own_first t ts ∙ (λ i. own_none t d.0 i ++ required_none ts d.1 i)

  -- and with a statement more that one does
  module _ (n : Tree) (e : Text × Silent) (one : own n ≡ e ∷ []) where
    required_after : (us : Trees) → required_helpers m p us ≡ [] → required_helpers m p (after_imports (n before empty) us) ≡ e ∷ []
    required_after empty h = own_first n empty ∙ (λ j. one j ++ [])
    required_after (b before us) h = let d = none_both (own b) (required_helpers m p us) (sym (own_first b us) ∙ h) in at d.0 (required_after us d.1) (is_import b)
      where
        at : own b ≡ [] → required_helpers m p (after_imports (n before empty) us) ≡ e ∷ [] → (c : Bool) → required_helpers m p (if c then b before after_imports (n before empty) us else joined_trees (n before empty) (b before us)) ≡ e ∷ []
        at first later true = own_first b (after_imports (n before empty) us) ∙ (λ j. first j ++ later j)
        at first later false = own_first n (b before us) ∙ (λ j. one j ++ h j)

-- WHAT THE TOP DECLARES, counted

word_bound : (kind : Text) → not (is_free (binding_of kind)) ≡ true
word_bound kind = at (bytes_eq kind (codes "const"))
  where
    at : (b : Bool) → not (is_free (if b then constant else changeable)) ≡ true
    at true = refl
    at false = refl

no_sum : (a b : ℕ) → a ≡ 0 → b ≡ 0 → a + b ≡ 0
no_sum a b h g = omega arith

no_part : (a b : ℕ) → a + b ≡ 0 → (a ≡ 0) × (b ≡ 0)
no_part a b h = (omega arith, omega arith)

module _ (x : Text) where
  abbrev count : List Declared → ℕ
  count ds = occurrences x (names_of_all ds)

  -- a name that isn't declared stands nowhere
  later_undeclared : (d : Declared) (ds : List Declared) → is_declared (d ∷ ds) x ≡ false → (bytes_eq d.name x ≡ false) × (is_declared ds x ≡ false)
  later_undeclared d ds h = at (bytes_eq x d.name) (bytes_eq-flip d.name x) h
    where
      at : (b : Bool) → bytes_eq d.name x ≡ b → not (is_free (if b then binding_of d.kind else scope_of ds x)) ≡ false → (bytes_eq d.name x ≡ false) × (is_declared ds x ≡ false)
      at true e g = absurd (let no : true ≡ false = sym (word_bound d.kind) ∙ g in cc no)
      at false e g = (e, g)

  pub count_none : (ds : List Declared) → is_declared ds x ≡ false → count ds ≡ 0
  count_none [] h = refl
  count_none (d ∷ ds) h = let e = later_undeclared d ds h in no_sum (one_where (bytes_eq d.name x)) (count ds) (ap one_where e.0) (count_none ds e.1)

  pub among_none : (ds : List Declared) → is_declared ds x ≡ false → is_among (names_of_all ds) x ≡ false
  among_none [] h = refl
  among_none (d ∷ ds) h = let e = later_undeclared d ds h in λ i. e.0 i || among_none ds e.1 i

  count_both : (ds es : List Declared) → count (ds ++ es) ≡ count ds + count es
  count_both [] es = omega arith
  count_both (d ∷ ds) es = let e = count_both ds es in omega (arith, e)

  -- with a statement more that declares it
  module _ (n : Tree) (one : count (top_names n) ≡ 1) where
    one_after : (us : Trees) → count (top_in us) ≡ 0 → count (top_in (after_imports (n before empty) us)) ≡ 1
    one_after empty h = let e = count_both (top_names n) [] in omega (arith, e, one)
    one_after (b before us) h = let d = no_part (count (top_names b)) (count (top_in us)) (sym (count_both (top_names b) (top_in us)) ∙ h) in at d.0 (one_after us d.1) (is_import b)
      where
        at : count (top_names b) ≡ 0 → count (top_in (after_imports (n before empty) us)) ≡ 1 → (c : Bool) → count (top_in (if c then b before after_imports (n before empty) us else joined_trees (n before empty) (b before us))) ≡ 1
        at first later true = let e = count_both (top_names b) (top_in (after_imports (n before empty) us)) in omega (arith, e, first, later)
        at first later false = let e = count_both (top_names n) (top_in (b before us)) in omega (arith, e, one, h)

-- A TEST OF NODES, with a statement more
all_after : (P : AstType → Label → Fields → Bool) (n : Tree) (us : Trees) → all_nodes P n ≡ true → all_in_trees P us ≡ true → all_in_trees P (after_imports (n before empty) us) ≡ true
all_after P n empty h g = and_from (all_nodes P n) true h refl
all_after P n (b before us) h g = let d = and_parts (all_nodes P b) (all_in_trees P us) g in at d.0 (all_after P n us h d.1) (is_import b)
  where
    at : all_nodes P b ≡ true → all_in_trees P (after_imports (n before empty) us) ≡ true → (c : Bool) → all_in_trees P (if c then b before after_imports (n before empty) us else joined_trees (n before empty) (b before us)) ≡ true
    at first later true = and_from (all_nodes P b) (all_in_trees P (after_imports (n before empty) us)) first later
    at first later false = and_from (all_nodes P n) (all_in_trees P (b before us)) h g

-- THE NAMES of a program that requires one more
module _ (m t : Text) (i : Import) (l : Label) (es us : Trees) (known : helper_in m i.source ≡ Some t) (texts : all_in_trees (no_helper_text m) us ≡ true) where
  abbrev x : Text
  x = i.local.name

  abbrev after : Trees
  after = after_imports (require_of i before empty) us

  abbrev q : Tree
  q = program l es after

  module _ (undeclared : is_declared (top_in us) x ≡ false) (first : all_in_trees (Unwritten x) es ≡ true) (second : all_in_trees (Unwritten x) us ≡ true) where
    only_here : count x (top_names (require_of i)) ≡ 1
    only_here = ap (λ (b : Bool). one_where b + 0) (bytes_eq-self x)

    settled : is_settled x q ≡ true
    settled =
        and_from (nat_eq (count x (top_in after)) 1) (is_unwritten x q) (ap (λ (c : ℕ). nat_eq c 1) (one_after x (require_of i) only_here us (count_none x (top_in us) undeclared)))
        (and_from (all_in_trees (Unwritten x) es) (all_in_trees (Unwritten x) after && true) first (and_from (all_in_trees (Unwritten x) after) true (all_after (Unwritten x) (require_of i) us refl second) refl))

    own_here : own m q (require_of i) ≡ (x, helper_name t) ∷ []
    own_here = λ j. if_settled (settled j) (named_helper x (known j)) ++ []

    pub required_names : is_declared (top_in after) (codes "require") ≡ false → helper_names (by_require m) q ≡ (x, helper_name t) ∷ []
    required_names unbound =
        ap (λ (b : Bool). if b then [] else required_helpers m q after) (among_none (codes "require") (top_in after) unbound) ∙
        required_after m q (require_of i) (x, helper_name t) own_here us (required_none m q us texts)
