-- Where no rule is broken, no optional mark stands outside a chain.
use Rattle.std.proofs.Common.{◌≡◌, ℕ, zero, suc, refl, sym, ap, ◌∙◌, List, [], ◌∷◌}
use Rattle.std.specs.Prelude.{Bool, true, false, ◌&&◌, not}
use Rattle.es_tree.specs.CoreStaticRules.{place_in, visits, is_optional, is_stray_optional}
use Rattle.es_tree.specs.Names.{flag_at}
use Rattle.es_tree.specs.Core.{IsCoreProgram}
use Rattle.es_tree.specs.StaticRules.{breaks}
use Rattle.es_tree.specs.Tree.{Tree, node, Label, Fields, done, ◌then◌, Field, missing, one, many, statements, Trees, empty, ◌before◌}
use Rattle.es_tree.specs.declared.ast_type.AstType.{AstType}
use Rattle.es_tree.specs.declared.ast_type.AstType.TheVariants.{ArrayTarget, CallExpression, ChainExpression, MemberExpression, Program, TargetProperty, VariableDeclaration, VariableDeclarator}
use Rattle.es_tree.specs.declared.place.Place.{Place}
use Rattle.es_tree.specs.declared.place.Place.TheVariants.{Other, ProgramBody, Spine, Target, Declarator}
use Rattle.es_tree.proofs.CoreBreaks.{breaks-core}
use Rattle.es_tree.proofs.KeptRules.{keep-none}
use Rattle.es_runs.specs.Core.{flag, flag_after}
use Rattle.es_runs.specs.Rules.{is_marked, on_spine, strays, strays_fields, strays_field, strays_nodes}
use Rattle.es_runs.proofs.Named.{or_both}
use Rattle.es_runs.proofs.StaticKeeps.{Keeps, KeepsFields, KeepsField, KeepsTrees, each_own, visits_keep}

-- whether the place is on the spine of a chain
abbrev is_spine : Place → Bool
is_spine Spine = true
is_spine _ = false

-- a first field is on a spine where its place is
first_spine : (p : Place) (k : AstType) (l : Label) → is_spine (place_in p k l 0) ≡ on_spine k (is_spine p)
first_spine p ChainExpression l = refl
first_spine Spine MemberExpression l = refl
first_spine _ MemberExpression l = refl
first_spine Spine CallExpression l = refl
first_spine _ CallExpression l = refl
first_spine ProgramBody VariableDeclaration l = refl
first_spine (Target s) VariableDeclaration l = refl
first_spine _ VariableDeclaration l = refl
first_spine (Declarator true lexical constant) VariableDeclarator l = refl
first_spine _ VariableDeclarator l = refl
first_spine p _ l = refl

-- and no later one is
later_spine : (p : Place) (k : AstType) (l : Label) (n : ℕ) → is_spine (place_in p k l (suc n)) ≡ false
later_spine p Program l zero = refl
later_spine p TargetProperty l zero = refl
later_spine p ArrayTarget l zero = refl
later_spine p _ l zero = refl
later_spine p ArrayTarget l (suc n) = refl
later_spine p _ l (suc n) = refl

first_flag : (bs : List Bool) → flag bs ≡ flag_at 0 bs
first_flag [] = refl
first_flag (b ∷ bs) = refl

second_flag : (bs : List Bool) → flag_after bs ≡ flag_at 1 bs
second_flag [] = refl
second_flag (b ∷ bs) = first_flag bs

same_mark : (k : AstType) (l : Label) → is_marked k l.flags ≡ is_optional k l
same_mark MemberExpression l = second_flag l.flags
same_mark CallExpression l = first_flag l.flags
same_mark _ l = refl

on_chain : (b : Bool) → (b && false) ≡ false
on_chain true = refl
on_chain false = refl

off_chain : (b : Bool) → b ≡ false → (b && true) ≡ false
off_chain true h = absurd (cc h)
off_chain false h = refl

-- the mark of one node
mark_kept : (p : Place) (k : AstType) (l : Label) (fs : Fields) → is_stray_optional p (node k l fs) ≡ false → (is_marked k l.flags && not (is_spine p)) ≡ false
mark_kept Spine k l fs h = on_chain (is_marked k l.flags)
mark_kept _ k l fs h = off_chain (is_marked k l.flags) (same_mark k l ∙ h)

mutual
  keeps_tidy : (p : Place) (t : Tree) → Keeps p t → strays (is_spine p) t ≡ false
  keeps_tidy p (node k l fs) h = or_both (is_marked k l.flags && not (is_spine p)) (strays_fields (on_spine k (is_spine p)) fs) (mark_kept p k l fs h.0.mark) (first_tidy p k l fs h.1)

  first_tidy : (p : Place) (k : AstType) (l : Label) (fs : Fields) → KeepsFields p k l 0 fs → strays_fields (on_spine k (is_spine p)) fs ≡ false
  first_tidy p k l done h = refl
  first_tidy p k l (f then fs) h =
      or_both (strays_field (on_spine k (is_spine p)) f) (strays_fields false fs) (ap (λ on. strays_field on f) (sym (first_spine p k l)) ∙ field_tidy (place_in p k l 0) f h.0) (later_tidy p k l 0 fs h.1)

  later_tidy : (p : Place) (k : AstType) (l : Label) (n : ℕ) (fs : Fields) → KeepsFields p k l (suc n) fs → strays_fields false fs ≡ false
  later_tidy p k l n done h = refl
  later_tidy p k l n (f then fs) h =
      or_both (strays_field false f) (strays_fields false fs) (ap (λ on. strays_field on f) (sym (later_spine p k l n)) ∙ field_tidy (place_in p k l (suc n)) f h.0) (later_tidy p k l (suc n) fs h.1)

  field_tidy : (p : Place) (f : Field) → KeepsField p f → strays_field (is_spine p) f ≡ false
  field_tidy p missing h = refl
  field_tidy p (one t) h = keeps_tidy p t h
  field_tidy p (many ts) h = trees_tidy p ts h
  field_tidy p (statements ts) h = trees_tidy p ts h

  trees_tidy : (p : Place) (ts : Trees) → KeepsTrees p ts → strays_nodes (is_spine p) ts ≡ false
  trees_tidy p empty h = refl
  trees_tidy p (t before ts) h = or_both (strays (is_spine p) t) (strays_nodes (is_spine p) ts) (keeps_tidy p t h.0) (trees_tidy p ts h.1)

-- a core program that breaks no rule is tidy
pub tidy_source : (p : Tree) → IsCoreProgram p → breaks p ≡ [] → strays false p ≡ false
tidy_source p is h = keeps_tidy Other p (visits_keep Other p (each_own [] (visits Other p) (keep-none [] (visits Other p) (sym (breaks-core p is) ∙ h))))
