-- What is seen of a node before and after its fields are visited: a class shows its own name, which stays.
use Rattle.std.proofs.Common.{◌≡◌, ◌∙◌, refl, ap, sym, subst, ℕ, Bool, true, false, Option}
use Rattle.std.specs.Prelude.{cond}
use Rattle.es_tree.specs.Tree.{Tree, node, Label, Fields, one}
use Rattle.es_tree.specs.Words.{Text}
use Rattle.es_tree.specs.declared.ast_type.AstType.{AstType}
use Rattle.es_tree.specs.declared.options.EnvOptions.{EnvOptions}
use Rattle.es_resolution.specs.Seen.{seen, seen_in, seen_marks}
use Rattle.es_steps.specs.Open.{is_statement_body, nothing_pending}
use Rattle.es_steps.specs.Steps.{Site as Place, site_in_body}
use Rattle.es_changes.specs.Changes.{AsBody, Kept}
use Rattle.es_changes.specs.Conditions.{holds_before}
use Rattle.es_changes.specs.Fits.{Fits, FitsBy}
use Rattle.es_changes.specs.Laws.{SamePlace}
use Rattle.es_changes.specs.Moments.{Moment}
use Rattle.es_changes.proofs.BodyLaws.{body-laws}
use Rattle.es_changes.proofs.InField.{field-laws}
use Rattle.es_changes.proofs.StillFits.{still-fits}
use Rattle.es_traverse.specs.Laws.{IsLawful, IsQuiet, Profile, opens_body}
use Rattle.es_traverse.specs.Sites.{Tells}
use Rattle.es_traverse.specs.Visits.{EnteredNode, ExitedNode, VisitedAt, VisitedBody, VisitedFields, opens_at}
use Rattle.es_traverse.specs.declared.site.Site.{Site}
use Rattle.es_traverse.specs.declared.site.Site.TheVariants.{ArrowBody}
use Rattle.es_traverse.proofs.ClassNames.{marks-stay}
use Rattle.es_traverse.proofs.Kept.{opens-options, opens-seen, same-place}
use Rattle.es_traverse.proofs.Pairs.{paired, paired-fits}
use Rattle.es_traverse.proofs.Nodes.{no-slot-body, opened-pair, told-inside, visited-seen}

-- WHERE THE NODE FITS: what a visit leaves is asked for there alone

module _ (p : Profile) (keeps : Bool) (law : IsLawful p) (a e : Moment) (t v : Tree) where
  body-under : ((m : Place) → Tells ArrowBody m → Fits (opens_body keeps t a) m t → holds_before p.conditions m t → VisitedBody p a t e v) → (n : Place) → FitsBy a n true (one t) → AsBody (holds_before p.conditions) n (is_statement_body t) t → VisitedBody p a t e v
  body-under h n f known = by (is_statement_body t) refl
    where
      opens : (o : Bool) → is_statement_body t ≡ o → opens_body keeps t a ≡ cond o a (paired keeps a)
      opens o is = opened-pair keeps (is_statement_body t) a ∙ ap (λ o. cond o a (paired keeps a)) is

      by : (o : Bool) → is_statement_body t ≡ o → VisitedBody p a t e v
      by true is = h n (no-slot-body a n t f) (subst (λ m. Fits m n t) (sym (opens true is)) ((field-laws p.rule law.rule).statements_fit a n t is f)) (subst (λ o. AsBody (holds_before p.conditions) n o t) is known)
      by false is =
          let m = site_in_body n nothing_pending t in
          h m (told-inside n t (no-slot-body a n t f)) (subst (λ x. Fits x m t) (sym (opens false is)) (paired-fits keeps a m t ((body-laws p.rule law.rule).fits a n t is f))) (subst (λ o. AsBody (holds_before p.conditions) n o t) is known)

visited-under : (p : Profile) (keeps : Bool) (c : Site) (a e : Moment) (t v : Tree) → IsLawful p → ((n : Place) → Tells c n → Fits (opens_at c keeps t a) n t → holds_before p.conditions n t → VisitedAt c p a t e v) → VisitedAt c p a t e v
visited-under p keeps ArrowBody a e t v law h = record {
  stepped = λ n f known. (body-under p keeps law a e t v h n f known).stepped n f known;
  free = λ n f known. (body-under p keeps law a e t v h n f known).free n f known;
}
visited-under p keeps c a e t v law h = record {
  stepped = λ n tells f known. (h n tells f known).stepped n tells f known;
  free = λ n tells f known. (h n tells f known).free n tells f known;
}

-- THE WHOLE VISIT of a node: its enter hooks, its fields, and its exit hooks, at a node with the same label but for the name of a class

pub visited-whole : (P : EnvOptions → Profile) (keeps : Bool) (c : Site) (a e : Moment) {b d : Moment} {w s w' s' i j i' j' : ℕ} (t : Tree) (k : AstType) (m : Label) (fs gs : Fields) (v : Tree) → IsLawful (P a.options) → IsQuiet keeps a.lists → IsQuiet keeps e.lists →
    Kept (opens_at c keeps t a) w s b w' s' → Kept b i j d i' j' → (names : ℕ → Text → Option ℕ) →
    EnteredNode (P a.options) c (opens_at c keeps (seen names t) a) (seen names t) b (seen names (node k m fs)) → VisitedFields (P b.options) k (record m { id = 0; marks = seen_marks names k m fs }) b (seen_in names fs) d (seen_in names gs) →
    ExitedNode (P d.options) keeps c d (seen names (node k m gs)) e v → VisitedAt c (P a.options) a (seen names t) e v
visited-whole P keeps c a e {b = b} {d = d} t k m fs gs v law quiet quiet' first inside names x y z =
    let p = P a.options in
    let l : Label = record m { id = 0; marks = seen_marks names k m fs } in
    let o : b.options ≡ a.options = first.options ∙ opens-options c keeps t a in
    let y' : VisitedFields p k l b (seen_in names fs) d (seen_in names gs) = subst (λ q. VisitedFields (P q) k l b (seen_in names fs) d (seen_in names gs)) o y in
    let still = still-fits p.rule law.rule in
    let start : SamePlace (opens_at c keeps (seen names t) a) b = subst (λ q. SamePlace q b) (sym (opens-seen c keeps names t a)) (same-place first) in
    visited-under p keeps c a e (seen names t) v law (λ n tells f known.
    let before = still.tree (opens_at c keeps (seen names t) a) b n (seen names t) (node k l (seen_in names fs)) start f (x.stepped n tells f known) in
    let at_fields = x.leaves n tells f known in
    let after = still.tree b d n (node k l (seen_in names fs)) (node k l (seen_in names gs)) (same-place inside) before (y'.stepped n before at_fields) in
    let same : seen_marks names k m gs ≡ seen_marks names k m fs = marks-stay names m n k l fs gs before.sort after.sort before.formed after.formed (y'.own n before at_fields) in
    let last : ExitedNode (P d.options) keeps c d (node k l (seen_in names gs)) e v = subst (λ q. ExitedNode (P d.options) keeps c d (node k (record m { id = 0; marks = q }) (seen_in names gs)) e v) same z in
    visited-seen P keeps c a e t k l (seen_in names fs) (seen_in names gs) v law quiet quiet' first inside names x y last)
