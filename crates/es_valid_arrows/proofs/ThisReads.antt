-- Each `this` that belongs to an arrow reaches its target, where arrows can become functions, and is read, by form and the static rules of
-- places.
use Rattle.std.proofs.Common.{◌≡◌, ◌+◌, ℕ, zero, suc, inl, inr, refl, sym, ap, subst, List, [], ◌∷◌, arith}
use Rattle.std.specs.Prelude.{◌⊎◌, ◌&&◌, ◌||◌, not, Bool, true, false}
use Rattle.std.proofs.lemmas.Bool.{and_from, or_right}
use Rattle.es_tree.specs.Ancestors.{Ancestor, ancestor}
use Rattle.es_tree.specs.HasForm.{has_form, same_type}
use Rattle.es_tree.specs.Tree.{Tree, node, Label, Fields, done, ◌then◌, Field, missing, one, many, statements, Trees, empty, ◌before◌, kind_of}
use Rattle.es_tree.specs.declared.ast_type.AstType.{AstType}
use Rattle.es_tree.specs.declared.ast_type.AstType.TheVariants.{ArrowFunctionExpression, ExportDefaultDeclaration, Program, ThisExpression}
use Rattle.es_tree.specs.declared.options.EnvOptions.{EnvOptions}
use Rattle.es_tree.specs.declared.table.Sort.{Sort}
use Rattle.es_tree.specs.declared.table.Sort.TheVariants.{Program as s-Program}
use Rattle.es_semantic.specs.RolesOf.{reads, role_at}
use Rattle.es_semantic.specs.declared.place.Role.{Role}
use Rattle.es_semantic.proofs.FormEdges.{EdgesAll, EdgesBy, EdgesIn, is_last}
use Rattle.es_steps.specs.Open.{is_body, opened_fields}
use Rattle.es_steps.specs.Steps.{Site, site_in, the_program}
use Rattle.es_steps.specs.ThisPlaces.{keeps_this}
use Rattle.es_steps.proofs.Opened.{finished-fields}
use Rattle.es_arrow_steps.specs.ThisFits.{belongs_in, is_read, reaches_in, this_fits, this_fits_all, this_fits_by, this_fits_in}
use Rattle.es_valid_steps.specs.ArrowNodes.{is_arrow_accessor}
use Rattle.es_valid_steps.specs.PlaceRules.{Keeps, KeepsAll, KeepsBy, KeepsIn}
use Rattle.es_valid_steps.proofs.FieldForms.{FieldHas, FieldsHave, TreesHave, node-have}
use Rattle.es_valid_steps.proofs.Visits.{law_places_proof}
use Rattle.es_valid_arrows.specs.ArrowPlaces.{arrow_in, is_outer, is_wrapped_slot, parameter_in}
use Rattle.es_valid_arrows.specs.Laws.{LawThisFits}
use Rattle.es_valid_arrows.proofs.Fits.{ArrowsFit, ArrowsFitAll, ArrowsFitBy, ArrowsFitIn, to-fits}
use Rattle.es_valid_arrows.proofs.ThisRoles.{Said, SaidAll, SaidBy, SaidFrom, edges-spoken, is_outermost, node-said, out-of, spoken}

-- FIELDS, counted from each of them on

abbrev SaidIn : (ℕ → Role) → (ℕ → Bool) → Fields → Type 0
SaidIn roles belongs done = Unit {0}
SaidIn roles belongs (f then fs) = SaidBy (roles zero) (belongs zero) f × SaidIn (λ i. roles (suc i)) (λ i. belongs (suc i)) fs

said-in : (r : Role) (b : Bool) (k : AstType) (l : Label) (all : Fields) (i : ℕ) (roles : ℕ → Role) (belongs : ℕ → Bool) (fs : Fields) → ((j m : ℕ) → m ≡ i + j → (role_at r k l all m ≡ roles j) × (belongs_in b (ancestor k l done m 0) ≡ belongs j)) → SaidFrom r b k l all i fs → SaidIn roles belongs fs
said-in r b k l all i roles belongs done same h = tt
said-in r b k l all i roles belongs (f then fs) same h =
    let here = same 0 i (omega arith) in
    (subst (λ (x : Role). SaidBy x (belongs zero) f) here.0 (subst (λ (x : Bool). SaidBy (role_at r k l all i) x f) here.1 h.0), said-in r b k l all (suc i) (λ j. roles (suc j)) (λ j. belongs (suc j)) fs (λ j m e. same (suc j) m (omega (arith, e))) h.1)

first-same : (r : Role) (b : Bool) (k : AstType) (l : Label) (all : Fields) (j m : ℕ) → m ≡ 0 + j → (role_at r k l all m ≡ role_at r k l all j) × (belongs_in b (ancestor k l done m 0) ≡ belongs_in b (ancestor k l done j 0))
first-same r b k l all j m e =
    let same : m ≡ j = omega (arith, e) in
    (ap (λ i. role_at r k l all i) same, ap (λ i. belongs_in b (ancestor k l done i 0)) same)

-- the nodes in them have form
children-have : (a : Sort) (k : AstType) (l : Label) (fs : Fields) → has_form a (node k l fs) ≡ true → FieldsHave k (site_in the_program k l (opened_fields (is_body k) fs)) (is_body k) fs
children-have a k l fs h =
    let same = finished-fields (is_body k) fs in
    subst (λ (gs : Fields). FieldsHave k (site_in the_program k l (opened_fields (is_body k) fs)) (is_body k) gs) same (node-have the_program a k l (opened_fields (is_body k) fs) (subst (λ (gs : Fields). has_form a (node k l gs) ≡ true) (sym same) h))

-- ONE NODE

own-fits : (r : Role) (belongs arrow reaches : Bool) (k : AstType) (l : Label) (fs : Fields) → (belongs ≡ true → arrow ≡ true) → ((is_outer reaches k l fs && arrow) || is_arrow_accessor k l fs) ≡ false → Said r belongs (node k l fs) → not (same_type k ThisExpression && belongs && not (is_read r && reaches)) ≡ true
own-fits r belongs arrow reaches ThisExpression l fs low fit said = at (is_read r) belongs arrow reaches low fit (said refl)
  where
    at : (v b a q : Bool) → (b ≡ true → a ≡ true) → ((not q && a) || false) ≡ false → (v ≡ true) ⊎ (b ≡ false) → not (b && not (v && q)) ≡ true
    at v false a q low fit said = refl
    at true true a true low fit said = refl
    at true true true false low fit said = absurd (cc fit)
    at true true false false low fit said = absurd (let e = low refl in cc e)
    at false true a q low fit (inl e) = absurd (cc e)
    at false true a q low fit (inr e) = absurd (cc e)
own-fits r belongs arrow reaches _ l fs low fit said = refl

-- what belongs to an arrow does so for functions, too
low-in : (slot kept own b c : Bool) → (b ≡ true → c ≡ true) → (not kept && (own || b)) ≡ true → (slot || (not kept && (own || c))) ≡ true
low-in true kept own b c h e = refl
low-in false true own b c h e = absurd (cc e)
low-in false false true b c h e = refl
low-in false false false b c h e = h e

program-outside : (b : Bool) (k : AstType) (l : Label) (i : ℕ) → (is_outermost k ≡ true → b ≡ false) → same_type k Program ≡ true → belongs_in b (ancestor k l done i 0) ≡ false
program-outside b Program l i out e = out refl
program-outside b _ l i out e = absurd (cc e)

-- EACH NODE

module _ (o : EnvOptions) where
  mutual
    this-tree : (a : Sort) (up : List Ancestor) (r : Role) (belongs arrow parameter reaches : Bool) (t : Tree) → (belongs ≡ true → arrow ≡ true) → (is_outermost (kind_of t) ≡ true → belongs ≡ false) → Said r belongs t → has_form a t ≡ true → Keeps up t → ArrowsFit o arrow parameter reaches t → this_fits r belongs reaches t ≡ true
    this-tree a up r belongs arrow parameter reaches (node k l fs) low out said form keeps fit =
        let inside = said-in r belongs k l fs 0 (λ i. role_at r k l fs i) (λ i. belongs_in belongs (ancestor k l done i 0)) fs (first-same r belongs k l fs) (node-said a r belongs k l up fs form said (λ e. out (or_right (same_type k Program) (same_type k ExportDefaultDeclaration) e)) keeps.1) in
        and_from _ (this_fits_in (λ i. role_at r k l fs i) (λ i. belongs_in belongs (ancestor k l done i 0)) (λ i. reaches_in reaches (ancestor k l done i 0)) fs) (own-fits r belongs arrow reaches k l fs low fit.0 said)
        (this-in k l fs up 0 (λ i. role_at r k l fs i) (λ i. belongs_in belongs (ancestor k l done i 0)) (λ i. reaches_in reaches (ancestor k l done i 0)) (λ i f. arrow_in o arrow parameter (ancestor k l done i 0) f) (λ i. parameter_in parameter (ancestor k l done i 0)) (site_in the_program k l (opened_fields (is_body k) fs)) (is_body k) fs (λ i f e. low-in (is_wrapped_slot o parameter (ancestor k l done i 0) f) (keeps_this (ancestor k l done i 0)) (same_type k ArrowFunctionExpression) belongs arrow low e) (λ i e. program-outside belongs k l i out e) inside (children-have a k l fs form) (edges-spoken a k l fs form) keeps.1 fit.1)

    this-in : (k : AstType) (l : Label) (all : Fields) (up : List Ancestor) (i : ℕ) (roles : ℕ → Role) (belongs reaches : ℕ → Bool) (arrows : ℕ → Field → Bool) (parameters : ℕ → Bool) (c : ℕ → Site) (bodies : ℕ → Bool) (fs : Fields) → ((j : ℕ) (f : Field) → belongs j ≡ true → arrows j f ≡ true) → ((j : ℕ) → same_type k Program ≡ true → belongs j ≡ false) →
        SaidIn roles belongs fs → FieldsHave k c bodies fs → EdgesIn spoken k i fs → KeepsIn up k l all i fs → ArrowsFitIn o arrows parameters reaches fs → this_fits_in roles belongs reaches fs ≡ true
    this-in k l all up i roles belongs reaches arrows parameters c bodies done low out said has edges keeps fit = refl
    this-in k l all up i roles belongs reaches arrows parameters c bodies (f then fs) low out said has edges keeps fit =
        and_from (this_fits_by (roles zero) (belongs zero) (reaches zero) f) (this_fits_in (λ j. roles (suc j)) (λ j. belongs (suc j)) (λ j. reaches (suc j)) fs) (this-by k l all i up (is_last fs) (roles zero) (belongs zero) (reaches zero) (arrows zero f) (parameters zero) (c zero) (bodies zero) f (low zero f) (out zero) said.0 has.0 edges.0 keeps.0 fit.0)
        (this-in k l all up (suc i) (λ j. roles (suc j)) (λ j. belongs (suc j)) (λ j. reaches (suc j)) (λ j. arrows (suc j)) (λ j. parameters (suc j)) (λ j. c (suc j)) (λ j. bodies (suc j)) fs (λ j. low (suc j)) (λ j. out (suc j)) said.1 has.1 edges.1 keeps.1 fit.1)

    this-by : (k : AstType) (l : Label) (all : Fields) (i : ℕ) (up : List Ancestor) (last : Bool) (r : Role) (belongs reaches arrow parameter : Bool) (n : Site) (b : Bool) (f : Field) → (belongs ≡ true → arrow ≡ true) → (same_type k Program ≡ true → belongs ≡ false) → SaidBy r belongs f → FieldHas k n b f → EdgesBy spoken k i last f → KeepsBy (ancestor k l all i 0 ∷ up) f → ArrowsFitBy o arrow parameter reaches f → this_fits_by r belongs reaches f ≡ true
    this-by k l all i up last r belongs reaches arrow parameter n b missing low out said has edges keeps fit = refl
    this-by k l all i up last r belongs reaches arrow parameter n b (one t) low out said has edges keeps fit = this-tree has.sort (ancestor k l all i 0 ∷ up) r belongs arrow parameter reaches t low (λ e. out-of k l all i up last belongs t edges keeps out e) said has.formed keeps fit
    this-by k l all i up last r belongs reaches arrow parameter n b (many ts) low out said has edges keeps fit = this-all k l all i up r belongs reaches arrow parameter ts low out said has.trees edges keeps fit
    this-by k l all i up last r belongs reaches arrow parameter n b (statements ts) low out said has edges keeps fit = this-all k l all i up r belongs reaches arrow parameter ts low out said has.trees edges keeps fit

    this-all : (k : AstType) (l : Label) (all : Fields) (i : ℕ) (up : List Ancestor) (r : Role) (belongs reaches arrow parameter : Bool) (ts : Trees) → (belongs ≡ true → arrow ≡ true) → (same_type k Program ≡ true → belongs ≡ false) → SaidAll r belongs ts → TreesHave ts → EdgesAll spoken k i ts → KeepsAll (ancestor k l all i 0 ∷ up) ts → ArrowsFitAll o arrow parameter reaches ts → this_fits_all r belongs reaches ts ≡ true
    this-all k l all i up r belongs reaches arrow parameter empty low out said has edges keeps fit = refl
    this-all k l all i up r belongs reaches arrow parameter (t before ts) low out said has edges keeps fit =
        and_from (this_fits r belongs reaches t) (this_fits_all r belongs reaches ts) (this-tree has.0.sort (ancestor k l all i 0 ∷ up) r belongs arrow parameter reaches t low (λ e. out-of k l all i up false belongs t edges.0 keeps.0 out e) said.0 has.0.formed keeps.0 fit.0) (this-all k l all i up r belongs reaches arrow parameter ts low out said.1 has.1 edges.1 keeps.1 fit.1)

-- THE LAW

pub law_this_fits_proof : LawThisFits
law_this_fits_proof o p form h fit = this-tree o s-Program [] reads false false false true p (λ e. absurd (cc e)) (λ e. refl) (λ e. inr refl) form ((law_places_proof p).to_places h) (to-fits o false false true p fit)
