-- Where the rules of places are kept no optional mark stands outside a chain.
use Rattle.std.proofs.Common.{◌≡◌, ℕ, zero, suc, refl, sym, ap, ◌∙◌, List, [], ◌∷◌}
use Rattle.std.proofs.lemmas.Bool.{and_right, or_from}
use Rattle.std.specs.Prelude.{Bool, true, false, not, ◌&&◌}
use Rattle.es_tree.specs.Ancestors.{Ancestor, ancestor, place_of}
use Rattle.es_tree.specs.CoreStaticRules.{declarator_place, is_optional, is_stray_optional, place_in}
use Rattle.es_tree.specs.Names.{first_text, flag_at}
use Rattle.es_tree.specs.Tree.{Tree, node, Label, Fields, done, ◌then◌, Field, missing, one, many, statements, Trees, empty, ◌before◌}
use Rattle.es_tree.specs.Words.{Text}
use Rattle.es_tree.specs.declared.ast_type.AstType.{AstType}
use Rattle.es_tree.specs.declared.ast_type.AstType.TheVariants.{ArrayTarget, CallExpression, ChainExpression, MemberExpression, Program, TargetProperty, VariableDeclaration, VariableDeclarator}
use Rattle.es_tree.specs.declared.place.Place.{Place}
use Rattle.es_tree.specs.declared.place.Place.TheVariants.{Other, ProgramBody, Spine, Target, Declarator, Declared}
use Rattle.es_runs.specs.Core.{flag, flag_after}
use Rattle.es_runs.specs.Rules.{is_marked, on_spine, strays, strays_field, strays_fields, strays_nodes}
use Rattle.es_resolution.specs.Declarations.{Bound}
use Rattle.es_steps.specs.OptionalChaining.{OptionalChainingRule}
use Rattle.es_steps.specs.OptionalChaining.OptionalChainingRule.{by_tests, as_callee, in_delete}
use Rattle.es_steps.specs.Steps.{Site, Whole}
use Rattle.es_valid_steps.specs.PlaceRules.{Keeps, KeepsAll, KeepsBy, KeepsIn}

abbrev pub is_spine : Place → Bool
is_spine Spine = true
is_spine _ = false

-- THE PLACES of the fields: the first is on a spine where the machine has it so, and no other is

first-spine : (p : Place) (k : AstType) (l : Label) → is_spine (place_in p k l zero) ≡ on_spine k (is_spine p)
first-spine p VariableDeclaration l = declared-spine p (first_text l.texts)
  where
    declared-spine : (p : Place) (word : Text) → is_spine (declarator_place p word) ≡ false
    declared-spine ProgramBody word = refl
    declared-spine (Target s) word = refl
    declared-spine _ word = refl
first-spine (Declarator true lexical constant) VariableDeclarator l = refl
first-spine (Declarator false lexical constant) VariableDeclarator l = refl
first-spine _ VariableDeclarator l = refl
first-spine p ChainExpression l = refl
first-spine Spine MemberExpression l = refl
first-spine _ MemberExpression l = refl
first-spine Spine CallExpression l = refl
first-spine _ CallExpression l = refl
first-spine p _ l = refl

later-spine : (p : Place) (k : AstType) (l : Label) (i : ℕ) → is_spine (place_in p k l (suc i)) ≡ false
later-spine p Program l zero = refl
later-spine p TargetProperty l zero = refl
later-spine p ArrayTarget l zero = refl
later-spine p ArrayTarget l (suc i) = refl
later-spine p _ l zero = refl
later-spine p _ l (suc i) = refl

-- A NODE's own mark

second-flag : (bs : List Bool) → flag_at 1 bs ≡ false → (flag_after bs && true) ≡ false
second-flag [] e = refl
second-flag (b ∷ []) e = refl
second-flag (b ∷ (false ∷ bs)) e = refl
second-flag (b ∷ (true ∷ bs)) e = absurd (cc e)

first-flag : (bs : List Bool) → flag_at 0 bs ≡ false → (flag bs && true) ≡ false
first-flag [] e = refl
first-flag (false ∷ bs) e = refl
first-flag (true ∷ bs) e = absurd (cc e)

unmarked : (k : AstType) (l : Label) → is_optional k l ≡ false → (is_marked k l.flags && true) ≡ false
unmarked MemberExpression l e = second-flag l.flags e
unmarked CallExpression l e = first-flag l.flags e
unmarked _ l e = refl

own-mark : (p : Place) (k : AstType) (l : Label) (fs : Fields) → is_stray_optional p (node k l fs) ≡ false → (is_marked k l.flags && not (is_spine p)) ≡ false
own-mark Spine k l fs e = and_right (is_marked k l.flags) false refl
own-mark Other k l fs e = unmarked k l e
own-mark ProgramBody k l fs e = unmarked k l e
own-mark (Target s) k l fs e = unmarked k l e
own-mark (Declarator a b c) k l fs e = unmarked k l e
own-mark (Declared b) k l fs e = unmarked k l e

-- ALL NODES

mutual
  pub none-strays : (up : List Ancestor) (t : Tree) → Keeps up t → strays (is_spine (place_of up)) t ≡ false
  none-strays up (node k l fs) h =
      or_from (is_marked k l.flags && not (is_spine (place_of up))) (strays_fields (on_spine k (is_spine (place_of up))) fs) (own-mark (place_of up) k l fs h.0.mark)
      (ap (λ b. strays_fields b fs) (sym (first-spine (place_of up) k l)) ∙ none-in up k l fs zero fs h.1)

  none-in : (up : List Ancestor) (k : AstType) (l : Label) (all : Fields) (i : ℕ) (fs : Fields) → KeepsIn up k l all i fs → strays_fields (is_spine (place_in (place_of up) k l i)) fs ≡ false
  none-in up k l all i done h = refl
  none-in up k l all i (f then fs) h =
      or_from (strays_field (is_spine (place_in (place_of up) k l i)) f) (strays_fields false fs) (none-by (ancestor k l all i 0 ∷ up) f h.0)
      (ap (λ b. strays_fields b fs) (sym (later-spine (place_of up) k l i)) ∙ none-in up k l all (suc i) fs h.1)

  none-by : (up : List Ancestor) (f : Field) → KeepsBy up f → strays_field (is_spine (place_of up)) f ≡ false
  none-by up missing h = refl
  none-by up (one t) h = none-strays up t h
  none-by up (many ts) h = none-among up ts h
  none-by up (statements ts) h = none-among up ts h

  none-among : (up : List Ancestor) (ts : Trees) → KeepsAll up ts → strays_nodes (is_spine (place_of up)) ts ≡ false
  none-among up empty h = refl
  none-among up (t before ts) h = or_from (strays (is_spine (place_of up)) t) (strays_nodes (is_spine (place_of up)) ts) (none-strays up t h.0) (none-among up ts h.1)

-- where the rows of chains act it makes no difference whether the node stands on a spine itself
pub strays-here : (no_all : Bool) (n : Site) (w : Whole) (bs : List Bound) (t u : Tree) → OptionalChainingRule no_all n w bs t u → (on : Bool) → strays on t ≡ false → strays false t ≡ false
strays-here no_all n w bs _ _ (by_tests level r some) on h = h
strays-here no_all n w bs _ _ (as_callee level r some callee) on h = h
strays-here no_all n w bs _ _ (in_delete texts alone target r some) on h = h
