-- Uses of helpers in trees without ids and marks: they are the same, and what stands for them instead loses its ids and marks too.
use Rattle.std.proofs.Common.{◌≡◌, ◌∙◌, refl, sym, ap, ◌++◌}
use Rattle.std.specs.Option.{option_or}
use Rattle.std.specs.Prelude.{Bool, true, false, ◌&&◌, Option, Some, None, codes, is_some, if◌then◌else◌}
use Rattle.es_tree.specs.Bare.{bare, bare_field, bare_fields, bare_label, bare_trees}
use Rattle.es_tree.specs.Names.{first_text, flag_at}
use Rattle.es_tree.specs.Tree.{Tree, node, Label, Fields, done, ◌then◌, Field, missing, one, many, statements, Trees, empty, ◌before◌}
use Rattle.es_tree.specs.Words.{Text}
use Rattle.es_tree.specs.declared.ast_type.AstType.{AstType}
use Rattle.es_tree.specs.declared.ast_type.AstType.TheVariants.{CallExpression, Identifier, MemberExpression}
use Rattle.es_tree.specs.declared.helper.Helper.{Helper}
use Rattle.es_helper_calls.specs.HelperCalls.{calling, calling_among, calling_by, calling_here, calling_in, calls_one, handed_on, helper_of, helpers_among, helpers_in, helpers_in_field, helpers_in_fields, in_its_place, is_called, is_dotted, named_helper, own_helper, passed_helper, used_helper, with_argument, with_callee}

-- WHICH HELPER a node uses

bare-name : (x : Text) (o : Tree) → is_called x (bare o) ≡ is_called x o
bare-name x (node Identifier l fs) = refl
bare-name x (node _ l fs) = refl

pub bare-helper : (t : Tree) → helper_of (bare t) ≡ helper_of t
bare-helper (node MemberExpression l (one o then (one (node Identifier m fs) then done))) = λ i. if is_dotted l && bare-name (codes "babelHelpers") o i then named_helper (first_text m.texts) else None
bare-helper _ = refl

bare-passed : (fs : Fields) → passed_helper (bare_fields fs) ≡ passed_helper fs
bare-passed (many (t before empty) then fs) = ap (λ o. handed_on o) (bare-helper t)
bare-passed _ = refl

pub bare-used : (k : AstType) (l : Label) (fs : Fields) → used_helper k (bare_label l) (bare_fields fs) ≡ used_helper k l fs
bare-used CallExpression l (one f then fs) = λ i. if flag_at 0 l.flags then None else option_or (bare-helper f i) (bare-passed fs i)
bare-used _ l fs = refl

-- THE HELPERS that a tree uses

mutual
  pub bare-helpers : (t : Tree) → helpers_in (bare t) ≡ helpers_in t
  bare-helpers (node k l fs) = λ i. bare-helpers-in fs i ++ own_helper (bare-used k l fs i)

  bare-helpers-in : (fs : Fields) → helpers_in_fields (bare_fields fs) ≡ helpers_in_fields fs
  bare-helpers-in done = refl
  bare-helpers-in (f then fs) = λ i. bare-helpers-by f i ++ bare-helpers-in fs i

  bare-helpers-by : (f : Field) → helpers_in_field (bare_field f) ≡ helpers_in_field f
  bare-helpers-by missing = refl
  bare-helpers-by (one t) = bare-helpers t
  bare-helpers-by (many ts) = bare-helpers-among ts
  bare-helpers-by (statements ts) = bare-helpers-among ts

  pub bare-helpers-among : (ts : Trees) → helpers_among (bare_trees ts) ≡ helpers_among ts
  bare-helpers-among empty = refl
  bare-helpers-among (t before ts) = λ i. bare-helpers t i ++ bare-helpers-among ts i

-- WHERE OTHER EXPRESSIONS STAND FOR THEM

bare-calls : (fs : Fields) → calls_one (bare_fields fs) ≡ calls_one fs
bare-calls (one f then fs) = ap (λ o. is_some o) (bare-helper f)
bare-calls _ = refl

bare-callee : (t : Tree) (fs : Fields) → bare_fields (with_callee t fs) ≡ with_callee (bare t) (bare_fields fs)
bare-callee t (one f then fs) = refl
bare-callee t _ = refl

bare-argument : (t : Tree) (fs : Fields) → bare_fields (with_argument t fs) ≡ with_argument (bare t) (bare_fields fs)
bare-argument t (f then (many us then fs)) = refl
bare-argument t _ = refl

bare-place : (t : Tree) (fs : Fields) → bare_fields (in_its_place t fs) ≡ in_its_place (bare t) (bare_fields fs)
bare-place t fs = at (calls_one fs) ∙ (λ i. if sym (bare-calls fs) i then with_callee (bare t) (bare_fields fs) else with_argument (bare t) (bare_fields fs))
  where
    at : (b : Bool) → bare_fields (if b then with_callee t fs else with_argument t fs) ≡ (if b then with_callee (bare t) (bare_fields fs) else with_argument (bare t) (bare_fields fs))
    at true = bare-callee t fs
    at false = bare-argument t fs

module _ (c : Helper → Tree) where
  abbrev pub bare_callee : Helper → Tree
  bare_callee h = bare (c h)

  bare-here : (o : Option Helper) (fs : Fields) → bare_fields (calling_here c o fs) ≡ calling_here bare_callee o (bare_fields fs)
  bare-here None fs = refl
  bare-here (Some h) fs = bare-place (c h) fs

  mutual
    pub bare-calling : (t : Tree) → bare (calling c t) ≡ calling bare_callee (bare t)
    bare-calling (node k l fs) = λ i. node k (bare_label l) ((bare-here (used_helper k l fs) (calling_in c fs) ∙ (λ j. calling_here bare_callee (sym (bare-used k l fs) j) (bare-calling-in fs j))) i)

    bare-calling-in : (fs : Fields) → bare_fields (calling_in c fs) ≡ calling_in bare_callee (bare_fields fs)
    bare-calling-in done = refl
    bare-calling-in (f then fs) = λ i. bare-calling-by f i then bare-calling-in fs i

    bare-calling-by : (f : Field) → bare_field (calling_by c f) ≡ calling_by bare_callee (bare_field f)
    bare-calling-by missing = refl
    bare-calling-by (one t) = ap (λ z. one z) (bare-calling t)
    bare-calling-by (many ts) = ap (λ z. many z) (bare-calling-among ts)
    bare-calling-by (statements ts) = ap (λ z. statements z) (bare-calling-among ts)

    pub bare-calling-among : (ts : Trees) → bare_trees (calling_among c ts) ≡ calling_among bare_callee (bare_trees ts)
    bare-calling-among empty = refl
    bare-calling-among (t before ts) = λ i. bare-calling t i before bare-calling-among ts i
