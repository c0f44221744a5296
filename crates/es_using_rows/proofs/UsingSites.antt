-- A row of the walk is a step of the rules of `using`, where `babelHelpers` finds nothing: by the form of the node its declarations become constants.
use Rattle.std.proofs.Common.{◌≡◌, ℕ, suc, zero, refl, sym, ap, subst, List, [], ◌∷◌}
use Rattle.std.specs.Prelude.{◌&&◌, ◌||◌, not, Bool, true, false, Option, Some, None, bytes_eq, codes, if◌then◌else◌}
use Rattle.std.proofs.lemmas.Bool.{and_parts}
use Rattle.es_tree.specs.Fresh.{IsFreshName, candidate, text_base}
use Rattle.es_tree.specs.HasForm.{has_form, trees_form}
use Rattle.es_tree.specs.Tree.{Tree, node, Label, Fields, done, ◌then◌, Field, missing, one, many, statements, Trees, empty, ◌before◌}
use Rattle.es_tree.specs.Words.{Text}
use Rattle.es_tree.specs.declared.ast_type.AstType.TheVariants.{ForStatement, Identifier, LabeledStatement, SwitchCase, SwitchStatement, VariableDeclaration, VariableDeclarator}
use Rattle.es_tree.specs.declared.table.Sort.{Sort}
use Rattle.es_tree.specs.declared.table.Sort.TheVariants.{Expression as s-Expression, Identifier as s-Identifier, Statement as s-Statement, SwitchCase as s-SwitchCase}
use Rattle.es_tree.proofs.NodeForm.{node_form}
use Rattle.es_semantic.specs.RolesOf.{reads}
use Rattle.es_resolution.specs.Declarations.{Bound, declared_by}
use Rattle.es_resolution.specs.Resolved.{Place}
use Rattle.es_resolution.proofs.Basics.{bytes_eq-equal}
use Rattle.es_steps.specs.Rules.{next_name}
use Rattle.es_steps.specs.Steps.{Whole}
use Rattle.es_steps.specs.UsingBlocks.{Constants, TakesContext, UsedAll, error_name, is_using_node}
use Rattle.es_steps.specs.UsingBlocks.Constants.{ended, stays, using}
use Rattle.es_steps.specs.UsingBlocks.UsedAll.{no_more, uses}
use Rattle.es_steps.specs.UsingLoops.{UsesInHead}
use Rattle.es_steps.specs.UsingLoops.UsesInHead.{in_head, with_label}
use Rattle.es_steps.specs.UsingSwitches.{ConstantsInCases}
use Rattle.es_steps.specs.UsingSwitches.ConstantsInCases.{in_case, no_case}
use Rattle.es_changes.proofs.Expressions.{law_expression_proof}
use Rattle.es_rest_rows.proofs.HelperNames.{FindsNone}
use Rattle.es_using_rows.specs.Used.{Makes, constant, constants, used_cases, used_declaration, used_declarators, used_loop}
use Rattle.es_using_rows.specs.UsingPlaces.{are_used, are_used_cases, have_values, is_used, is_using_word, leads_to_head, uses_in_head}
use Rattle.es_using_rows.specs.UsingRows.{making}

-- TEXTS AND NAMES

pub word-using : (ts : List (Option Text)) → is_using_word ts ≡ true → ts ≡ Some (codes "using") ∷ []
word-using [] e = absurd (cc e)
word-using (None ∷ ts) e = absurd (cc e)
word-using (Some x ∷ []) e = ap (λ (y : Text). Some y ∷ []) (bytes_eq-equal x (codes "using") e)
word-using (Some x ∷ t ∷ ts) e = absurd (cc e)

no-error-name : (n : ℕ) → bytes_eq error_name (candidate (text_base (codes "usingCtx")) n) ≡ false
no-error-name zero = refl
no-error-name (suc n) = refl

module _ (w : Whole) (c : Text) (fresh : IsFreshName w.in_use (text_base (codes "usingCtx")) c) (used : w.in_use (codes "babelHelpers") ≡ true) where
  pub takes : (p : Place) → FindsNone p → TakesContext w c p
  takes p none = record { fresh = fresh; other = subst (λ (x : Text). bytes_eq error_name x ≡ false) (sym fresh.name) (no-error-name fresh.number); helpers = none; helpers_used = used }

-- WHAT IS USED becomes constants

module _ (w : Whole) (c : Text) (i : ℕ) where
  abbrev pub m : Makes
  m = making w c

  abbrev pub b : Bound
  b = next_name w c

  all-used : (ds : Trees) → have_values ds ≡ true → UsedAll b ds (used_declarators m i ds)
  all-used empty h = no_more
  all-used (node VariableDeclarator l (one x then one e then done) before ds) h = uses (all-used ds h)
  all-used (d before ds) h = absurd (cc h)

  declaration-is : (t : Tree) (ts us : Trees) → is_used t ≡ true → Constants b ts us → Constants b (t before ts) (used_declaration m i t before us)
  declaration-is (node VariableDeclaration l (many (d before ds) then done)) ts us e r =
      let both = and_parts (is_using_word l.texts) (have_values (d before ds)) e in
      using (word-using l.texts both.0) (all-used (d before ds) both.1) r
  declaration-is t ts us e r = absurd (cc e)

  constant-is : (t : Tree) (ts us : Trees) → (not (is_using_node t) || is_used t) ≡ true → Constants b ts us → Constants b (t before ts) (constant m i t before us)
  constant-is t ts us e r = at (is_using_node t) refl e
    where
      at : (v : Bool) → is_using_node t ≡ v → (not v || is_used t) ≡ true → Constants b (t before ts) ((if v then used_declaration m i t else t) before us)
      at true d f = declaration-is t ts us f r
      at false d f = stays d r

  pub constants-are : (ts : Trees) → are_used ts ≡ true → Constants b ts (constants m i ts)
  constants-are empty e = ended
  constants-are (t before ts) e =
      let both = and_parts (not (is_using_node t) || is_used t) (are_used ts) e in
      constant-is t ts (constants m i ts) both.0 (constants-are ts both.1)

  pub cases-are : (cs : Trees) → are_used_cases cs ≡ true → ConstantsInCases b cs (used_cases m i cs)
  cases-are empty e = no_case
  cases-are (node SwitchCase l (f then statements ts then done) before cs) e =
      let both = and_parts (are_used ts) (are_used_cases cs) e in
      in_case (constants-are ts both.0) (cases-are cs both.1)
  cases-are (t before cs) e = absurd (cc e)

  -- the name of a label is an identifier without fields
  with-name : (l : Label) (t u v : Tree) → has_form s-Identifier t ≡ true → UsesInHead b u v → UsesInHead b (node LabeledStatement l (one t then one u then done)) (node LabeledStatement l (one t then one v then done))
  with-name l (node Identifier k done) u v h r = with_label r
  with-name l (node Identifier k (f then fs)) u v h r = absurd (let no : false ≡ true = (node_form s-Identifier Identifier k (f then fs) h).children in cc)
  with-name l (node k m fs) u v h r = absurd (let no : false ≡ true = (node_form s-Identifier k m fs h).sort in cc)

  for-head : (l : Label) (t : Tree) (f g h : Field) → is_used t ≡ true → UsesInHead b (node ForStatement l (one t then f then g then h then done)) (node ForStatement l (one (used_declaration m i t) then f then g then h then done))
  for-head l (node VariableDeclaration k (many (d before ds) then done)) f g h e =
      let both = and_parts (is_using_word k.texts) (have_values (d before ds)) e in
      in_head (word-using k.texts both.0) (all-used (d before ds) both.1)
  for-head l t f g h e = absurd (cc e)

  pub for-is : (l : Label) (fs : Fields) → uses_in_head fs ≡ true → UsesInHead b (node ForStatement l fs) (used_loop m i (node ForStatement l fs))
  for-is l (one t then f then g then h then done) e = for-head l t f g h e
  for-is l fs e = absurd (cc e)

  pub head-is : (s : Sort) (t : Tree) → has_form s t ≡ true → leads_to_head t ≡ true → UsesInHead b t (used_loop m i t)
  head-is s (node ForStatement l fs) h e = for-is l fs e
  head-is s (node LabeledStatement l (one t then one u then done)) h e =
      let parts = and_parts (has_form s-Identifier t) (has_form s-Statement u && true) (node_form s LabeledStatement l (one t then one u then done) h).children in
      with-name l t u (used_loop m i u) parts.0 (head-is s-Statement u (and_parts (has_form s-Statement u) true parts.1).0 e)
  head-is s t h e = absurd (cc e)

-- what a `switch` tests declares nothing
pub tested-none : (s : Sort) (l : Label) (d : Field) (cs : Trees) → has_form s (node SwitchStatement l (d then many cs then done)) ≡ true → declared_by false reads d ≡ []
tested-none s l missing cs h = absurd (let no : false ≡ true = (node_form s SwitchStatement l (missing then many cs then done) h).children in cc)
tested-none s l (one t) cs h = (law_expression_proof t (and_parts (has_form s-Expression t) (trees_form s-SwitchCase s-SwitchCase cs && true) (node_form s SwitchStatement l (one t then many cs then done) h).children).0).declares_nothing false
tested-none s l (many ts) cs h = absurd (let no : false ≡ true = (node_form s SwitchStatement l (many ts then many cs then done) h).children in cc)
tested-none s l (statements ts) cs h = absurd (let no : false ≡ true = (node_form s SwitchStatement l (statements ts then many cs then done) h).children in cc)
