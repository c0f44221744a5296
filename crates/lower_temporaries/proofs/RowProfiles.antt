-- The laws of a lowering that replaces expressions by a row, and what its hook leaves: an expression that was replaced, or one that was left alone.
use Rattle.std.proofs.Common.{◌≡◌, ◌∙◌, ◌<◌, ◌&&◌, ℕ, Bool, true, false, refl, sym, ap, subst, length, List, Option}
use Rattle.es_tree.specs.HasForm.{has_form}
use Rattle.es_tree.specs.Tree.{Tree, node, Label, Fields, fields_of, kind_of, label_of}
use Rattle.es_tree.specs.Words.{Text}
use Rattle.es_tree.specs.declared.ast_type.AstType.{AstType}
use Rattle.es_tree.specs.declared.options.EnvOptions.{EnvOptions}
use Rattle.es_tree.specs.declared.table.Sort.{Sort}
use Rattle.es_resolution.specs.Declarations.{Bound}
use Rattle.es_resolution.specs.Seen.{seen}
use Rattle.es_steps.specs.CoreRules.{RowRule}
use Rattle.es_steps.specs.Open.{is_statement_body}
use Rattle.es_steps.specs.Steps.{Ledger, Site, Spot, Whole}
use Rattle.es_visit.specs.Hooks.{IsHooked, hook_of_sort, sort_of}
use Rattle.es_visit.specs.declared.hook.Hook.{Hook}
use Rattle.es_visit.specs.declared.hook.Hook.TheVariants.{Expression}
use Rattle.es_changes.specs.Moments.{Moment}
use Rattle.es_changes.specs.Rules.{IsLawfulRule}
use Rattle.es_conditions.specs.Laws.{Keeps}
use Rattle.es_traverse.specs.Laws.{Entered, IsLawful, IsStable, KeptLoad, Known, Profile, Seen, anything, anywhere, is_construct, acts_inward}
use Rattle.lower_temporaries.specs.Replacings.{IsPut, Replaces}
use Rattle.lower_temporaries.specs.RowProfiles.{constructs_where, row_profile}
use Rattle.lower_temporaries.proofs.Entered.{entered-by-row, entered-same, is_expression_hook, kept-by-row, sort-expression}

-- ITS CONSTRUCTS

pub none-where : (on : Bool) → (on && false) ≡ false
none-where true = refl
none-where false = refl

module _ (is : AstType → Label → Fields → Bool) where
  -- steps that make no node such a construct make none one that is to be removed
  pub stable-where : (R : Site → Ledger → Spot → Ledger → Spot → Type 0) → IsStable R is → (on : Bool) (h : Hook) → IsStable R (constructs_where is on h)
  stable-where R stable true Expression = stable
  stable-where R stable false Expression = λ n s s' k l first fs gs stand r e. refl
  stable-where R stable on _ = λ n s s' k l first fs gs stand r e. refl

  hooked-where : ((k : AstType) (l : Label) (fs : Fields) → is k l fs ≡ true → IsHooked Expression k) → (on : Bool) (k : AstType) (l : Label) (fs : Fields) → (on && is k l fs) ≡ true → IsHooked Expression k
  hooked-where hooked true k l fs e = hooked k l fs e
  hooked-where hooked false k l fs e = absurd (cc e)

  placed-where : ((k : AstType) (l : Label) (fs : Fields) → is k l fs ≡ true → IsHooked Expression k) → (on : Bool) (h : Hook) (k : AstType) (l : Label) (fs : Fields) → constructs_where is on h k l fs ≡ true → IsHooked h k
  placed-where hooked on Expression k l fs e = hooked-where hooked on k l fs e
  placed-where hooked on _ k l fs e = absurd (cc e)

  -- it removes nothing at other hooks
  pub only-where : (on : Bool) (h : Hook) → (h ≡ Expression → ⊥) → (k : AstType) (l : Label) (fs : Fields) → constructs_where is on h k l fs ≡ false
  only-where on Expression e k l fs = absurd (e refl)
  only-where on _ e k l fs = refl

  pub row-lawful : (o : EnvOptions) (counts leaves : Site → Tree → Bool) (R : Site → Ledger → Spot → Ledger → Spot → Type 0) (on : Bool) (makes : Tree → Type 0) → IsLawfulRule R → IsStable R is → ((k : AstType) (l : Label) (fs : Fields) → is k l fs ≡ true → IsHooked Expression k) →
      IsLawful (row_profile o counts leaves R (constructs_where is on) makes)
  row-lawful o counts leaves R on makes lawful stable hooked = record { rule = lawful; stable = stable-where R stable on; placed = placed-where hooked on; own = λ h t e. absurd e; outward = acts_inward (row_profile o counts leaves R (constructs_where is on) makes) (λ k l fs. refl) (λ n t. refl) }

-- WHAT IS PUT, by the kinds of the two nodes

by-kind : (T : Tree → Bool) (t : Tree) (k : AstType) → kind_of t ≡ k → T (node k (label_of t) (fields_of t)) ≡ false → T t ≡ false
by-kind T (node j l fs) k e h = ap (λ i. T (node i l fs)) e ∙ h

pub put-by-kinds : (p : Profile) (j k : AstType) (t u : Tree) → kind_of t ≡ j → kind_of u ≡ k → is_construct (p.constructs Expression) (node k (label_of u) (fields_of u)) ≡ false → is_expression_hook (hook_of_sort (sort_of k)) ≡ true →
    is_statement_body (node j (label_of t) (fields_of t)) ≡ false → is_statement_body (node k (label_of u) (fields_of u)) ≡ false → p.makes u → IsPut p t u
put-by-kinds p j k t u before after cleared sort no_body no_body_after made = record {
  cleared = by-kind (is_construct (p.constructs Expression)) u k after cleared;
  sort = sort-expression t u (ap (λ i. is_expression_hook (hook_of_sort (sort_of i))) after ∙ sort);
  body = by-kind is_statement_body u k after no_body_after ∙ sym (by-kind is_statement_body t j before no_body);
  made = made;
}

-- THE HOOK

abbrev pub EnteredBy : Profile → Moment → Tree → Moment → Tree → Type 0
EnteredBy p a t b u = Entered p (Known p.counts) (Known p.leaves) Expression anywhere a t b u

-- a row that asks for nothing beside that the node fits
pub whatever-known : {known : Site → Tree → Type 0} {R : Site → Whole → List Bound → Tree → Tree → Type 0} {a b : Moment} {t u : Tree} → Replaces anything R a t b u → Replaces known R a t b u
whatever-known r = record { made = r.made; ids = r.ids; takes = r.takes; row = λ n f k. r.row n f tt; nodes = r.nodes; lighter = r.lighter }

-- An expression was replaced, once it was taken out.
module _ (R : Site → Whole → List Bound → Tree → Tree → Type 0) (a b : Moment) (t s u : Tree) (taken : s ≡ t) (there : 0 < length a.lists) where
  pub row-kept : (known : Site → Tree → Type 0) → Seen (λ x y. Replaces known R a x b y) s u → KeptLoad 0 a t b u
  row-kept known rows = subst (λ v. KeptLoad 0 a v b u) taken (kept-by-row known R a s b u there rows)

  pub row-entered : (p : Profile) → ((n : Site) (l : Ledger) (x : Spot) (m : Ledger) (y : Spot) → RowRule R n l x m y → p.rule n l x m y) → Keeps p.counts p.leaves R → Seen (λ x y. Replaces (Known p.counts) R a x b y) s u → Seen (IsPut p) s u → Seen (λ x y. EnteredBy p a x b y) t u
  row-entered p on keeps rows put = subst (λ v. Seen (λ x y. EnteredBy p a x b y) v u) taken (λ names. entered-by-row p a (seen names s) b (seen names u) R on keeps there (rows names) (put names))

-- It was left alone: the lowering is off, or the node is none that the code lowers, which each construct is that has form.

none-lowered : (on construct lowerable : Bool) → (construct ≡ true → lowerable ≡ true) → (on && lowerable) ≡ false → (on && construct) ≡ false
none-lowered false construct lowerable f e = refl
none-lowered true false lowerable f e = refl
none-lowered true true lowerable f e = sym (f refl) ∙ e

pub left-alone : (p : Profile) (is low : AstType → Label → Fields → Bool) (on is_on : Bool) → ((t : Tree) → is_construct (p.constructs Expression) t ≡ (on && is_construct is t)) → ((n : Site) (t : Tree) → Known p.counts n t → Known p.leaves n t) →
    ((s : Sort) (t : Tree) → has_form s t ≡ true → is_construct is t ≡ true → is_construct low t ≡ true) → ((names : ℕ → Text → Option ℕ) (t : Tree) → is_construct low (seen names t) ≡ is_construct low t) →
    is_on ≡ on → (a : Moment) (t : Tree) → (is_on && is_construct low t) ≡ false → Seen (λ x y. EnteredBy p a x a y) t t
left-alone p is low on is_on told left formed low-seen same a t e names =
    let off : (on && is_construct low (seen names t)) ≡ false = (λ i. sym same i && low-seen names t i) ∙ e in
    entered-same p a (seen names t) (λ n f k. left n (seen names t) k)
    (λ n f k. told (seen names t) ∙ none-lowered on (is_construct is (seen names t)) (is_construct low (seen names t)) (formed f.sort (seen names t) f.formed) off)
