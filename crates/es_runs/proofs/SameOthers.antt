-- What isn't core is alike for two worlds, and so are nodes in which no bad name stands, whatever they are.
use Rattle.std.proofs.Common.{Option, ◌≡◌, ℕ, zero, suc, refl, List, ap, ◌∙◌, subst, sym}
use Rattle.std.specs.Prelude.{Bool, true, false, if◌then◌else◌, ◌&&◌}
use Rattle.es_tree.specs.Words.{Text}
use Rattle.es_tree.specs.Names.{first_text as first}
use Rattle.es_tree.specs.Tree.{Tree, node, Label, Fields, done, ◌then◌, Field, missing, one, many, statements, Trees, empty, ◌before◌}
use Rattle.es_tree.specs.declared.ast_type.AstType.{AstType}
use Rattle.es_tree.specs.declared.ast_type.AstType.TheVariants.{CallExpression, Identifier, TemplateLiteral}
use Rattle.es_runs.specs.Machine.{Value, M, Stop, Cell, return, stop}
use Rattle.es_runs.specs.Core.{World, Form, Meaning, Part, begins_with_spread, first_formed, flag, form_beside, gives_value, has_spread, is_other, meaning, meaning_of, meanings, own_parts, part, parts, with_form}
use Rattle.es_runs.specs.Core.Form.{math_pow, member_call, member_bind, other}
use Rattle.es_runs.specs.Alike.{Frame, kept_cells, Alike, Equal, SameWorld, Level, Need, Like, LikeCallee, the_callee, bad_names, is_bad, needs, touches, touches_fields, touches_field, touches_nodes}
use Rattle.es_runs.specs.Alike.LikeCallee.{by_call, by_reference}
use Rattle.es_runs.specs.Duplication.{is_plain_template}
use Rattle.es_runs.specs.Rules.{strays}
use Rattle.es_runs.specs.Machine.Stop.{unknown}
use Rattle.es_runs.proofs.Basic.{stop_alike}
use Rattle.es_runs.proofs.Congruence.{plain_like}
use Rattle.es_runs.proofs.CoreWorlds.{IsCoreWorld}
use Rattle.es_runs.proofs.Everywhere.{PartLike, PartsLike, kind_like, kind_words}
use Rattle.es_runs.proofs.Everywhere.PartLike.{absent_like, single_like, several_like}
use Rattle.es_runs.proofs.Everywhere.PartsLike.{no_part, one_part}
use Rattle.es_runs.proofs.Fresh.{or_left, or_right}
use Rattle.es_runs.proofs.Lists.{AllLike}
use Rattle.es_runs.proofs.Lists.AllLike.{no_more, one_more}
use Rattle.es_runs.proofs.MathWords.{DeclaredWordless, NoMathIn, NoMathWord, node_wordless, takes_it}
use Rattle.es_runs.proofs.Uncut.{NeverCut}

-- both give this value in every state, or stop for this reason
pub data AlwaysAlike (m k : M Value) : Type 0 where
  always_give : {u : Value} → m ≡ return u → k ≡ return u → AlwaysAlike m k
  always_stop : {w : Stop} → m ≡ stop w → k ≡ stop w → AlwaysAlike m k

-- THE PREMISE ON TWO WORLDS: what isn't core is alike for both, wherever it stands and touches no bad name, while the cells
-- stay that are known; a template that is written down again is the same always; and where no mark strays nothing is cut
-- short. Spreads stand among arguments in both or in neither.
pub record SameOthers (hidden frozen : Text → Bool) (w v : World) : Type 0 where
  pub alike : (d : Text → Cell) (n : Need) (t : Tree) → touches (bad_names hidden frozen) n t ≡ false → Alike (kept_cells hidden frozen d) Equal (w.other t) (v.other t)
  pub again : (l : Label) (fs : Fields) → is_plain_template fs ≡ true → AlwaysAlike (w.other (node TemplateLiteral l fs)) (v.other (node TemplateLiteral l fs))
  pub uncut : (t : Tree) → strays false t ≡ false → NeverCut (v.other t)
  pub spreads : v.spreads ≡ w.spreads

-- worlds of core programs meet it
pub core_others : (hidden frozen : Text → Bool) (w v : World) → IsCoreWorld w → IsCoreWorld v → SameOthers hidden frozen w v
core_others hidden frozen w v h g = record {
  alike = λ d n t k. rw (h.other t, g.other t) (stop_alike (kept_cells hidden frozen d) unknown);
  again = λ l fs k. always_stop (h.other (node TemplateLiteral l fs)) (g.other (node TemplateLiteral l fs));
  uncut = λ t k. rw (g.other t) (λ s. tt);
  spreads = rw (h.spreads, g.spreads) refl;
}

module _ (F : Frame) (w v : World) (same : SameWorld F.hidden w v) (bad : Level → Text → Bool) (below : (n : Level) (x : Text) → bad n x ≡ false → bad_names F.hidden F.frozen n x ≡ false) (others : (n : Need) (t : Tree) → touches bad n t ≡ false → Alike F Equal (w.other t) (v.other t)) (spreads : v.spreads ≡ w.spreads) where
  good_below : (n : Level) (k : AstType) (ts : List (Option Text)) → is_bad bad n k ts ≡ false → is_bad (bad_names F.hidden F.frozen) n k ts ≡ false
  good_below n Identifier ts h = below n (first ts) h
  good_below n _ ts h = refl

  mutual
    -- no hidden name `Math` is evaluated
    pub same_words : (t : Tree) (n : Need) → touches bad n t ≡ false → NoMathIn F.hidden n (meaning w t)
    same_words (node k l fs) n h e =
        node_wordless w F.hidden k l fs
        (kind_words F w v same n k l fs (good_below n.level k l.texts (or_left (is_bad bad n.level k l.texts) (touches_fields bad (needs n k l.texts l.flags) fs) h))
        (declared_words fs (needs n k l.texts l.flags) (or_right (is_bad bad n.level k l.texts) (touches_fields bad (needs n k l.texts l.flags) fs) h)) e)

    declared_words : (fs : Fields) (c : ℕ → Need) → touches_fields bad c fs ≡ false → takes_it (c zero).level ≡ true → DeclaredWordless w F.hidden fs
    declared_words (one a then (missing then done)) c h e = same_words a (c zero) (or_left (touches bad (c zero) a) false h) e
    declared_words _ c h e = tt

  -- a callee beside arguments
  callee_formed : (f : Form → Form) (optional : Bool) {a b : Meaning} → f other ≡ other → Like F w v (the_callee optional) a b → Like F w v (the_callee optional) (with_form f a) (with_form f b)
  callee_formed f true e h = record { evaluation = h.evaluation; form = λ i. ap f (h.form i) }
  callee_formed f false {a} {b} e h = record { evaluation = at h.evaluation; form = λ i. ap f (h.form i) }
    where
      at : LikeCallee F w v a b → LikeCallee F w v (with_form f a) (with_form f b)
      at (by_reference g) = by_reference g
      at (by_call k g) = by_call (ap f k ∙ e) g

  word_formed : (in_front some : Bool) (g : Form) → NoMathWord F.hidden g → NoMathWord F.hidden (form_beside in_front some g)
  word_formed in_front true math_pow h = tt
  word_formed in_front false math_pow h = tt
  word_formed true some member_call h = tt
  word_formed false some member_call h = tt
  word_formed true some member_bind h = tt
  word_formed false some member_bind h = tt
  word_formed in_front some _ h = h

  called_like : (n : Need) (ts : List (Option Text)) (flags : List Bool) (in_front some : Bool) {ps qs : List Part} → PartsLike F w v (needs n CallExpression ts flags) ps qs →
      PartsLike F w v (needs n CallExpression ts flags) (first_formed (form_beside in_front some) ps) (first_formed (form_beside in_front some) qs)
  called_like n ts flags in_front some no_part = no_part
  called_like n ts flags in_front some (one_part (single_like {a = a} words h) hs) = one_part (single_like (λ e. word_formed in_front some a.form (words e)) (callee_formed (form_beside in_front some) (flag flags) refl h)) hs
  called_like n ts flags in_front some (one_part absent_like hs) = one_part absent_like hs
  called_like n ts flags in_front some (one_part (several_like h) hs) = one_part (several_like h) hs

  own_like : (n : Need) (k : AstType) (ts : List (Option Text)) (flags : List Bool) (fs : Fields) → PartsLike F w v (needs n k ts flags) (parts w fs) (parts v fs) → PartsLike F w v (needs n k ts flags) (own_parts w k fs (parts w fs)) (own_parts v k fs (parts v fs))
  own_like n CallExpression ts flags (f then (many us then fs)) h =
      subst (λ (b : Bool). PartsLike F w v (needs n CallExpression ts flags) (own_parts w CallExpression (f then (many us then fs)) (parts w (f then (many us then fs)))) (first_formed (form_beside (b && begins_with_spread us) (b && has_spread us)) (parts v (f then (many us then fs))))) (sym spreads)
      (called_like n ts flags (w.spreads && begins_with_spread us) (w.spreads && has_spread us) h)
  own_like n CallExpression ts flags done h = h
  own_like n CallExpression ts flags (f then done) h = h
  own_like n CallExpression ts flags (f then (missing then fs)) h = h
  own_like n CallExpression ts flags (f then (one t then fs)) h = h
  own_like n CallExpression ts flags (f then (statements us then fs)) h = h
  own_like n _ ts flags fs h = h

  mutual
    pub same_like : (t : Tree) (n : Need) → touches bad n t ≡ false → Like F w v n (meaning w t) (meaning v t)
    same_like (node k l fs) n h = at (is_other k fs) (same_parts fs (needs n k l.texts l.flags) (or_right (is_bad bad n.level k l.texts) (touches_fields bad (needs n k l.texts l.flags) fs) h))
      where
        at : (b : Bool) → PartsLike F w v (needs n k l.texts l.flags) (parts w fs) (parts v fs) →
            Like F w v n (if b then gives_value (w.other (node k l fs)) else meaning_of w k l.texts l.flags (own_parts w k fs (parts w fs))) (if b then gives_value (v.other (node k l fs)) else meaning_of v k l.texts l.flags (own_parts v k fs (parts v fs)))
        at true g = plain_like F w v same n _ _ (others n (node k l fs) h)
        at false g = kind_like F w v same n k l.texts l.flags (good_below n.level k l.texts (or_left (is_bad bad n.level k l.texts) (touches_fields bad (needs n k l.texts l.flags) fs) h)) (own_like n k l.texts l.flags fs g)

    same_parts : (fs : Fields) (c : ℕ → Need) → touches_fields bad c fs ≡ false → PartsLike F w v c (parts w fs) (parts v fs)
    same_parts done c h = no_part
    same_parts (f then fs) c h = one_part (same_part f (c zero) (or_left (touches_field bad (c zero) f) (touches_fields bad (λ i. c (suc i)) fs) h)) (same_parts fs (λ i. c (suc i)) (or_right (touches_field bad (c zero) f) (touches_fields bad (λ i. c (suc i)) fs) h))

    same_part : (f : Field) (n : Need) → touches_field bad n f ≡ false → PartLike F w v n (part w f) (part v f)
    same_part missing n h = absent_like
    same_part (one t) n h = single_like (same_words t n h) (same_like t n h)
    same_part (many ts) n h = several_like (same_meanings ts n h)
    same_part (statements ts) n h = several_like (same_meanings ts n h)

    same_meanings : (ts : Trees) (n : Need) → touches_nodes bad n ts ≡ false → AllLike F w v n (meanings w ts) (meanings v ts)
    same_meanings empty n h = no_more
    same_meanings (t before ts) n h = one_more (same_like t n (or_left (touches bad n t) (touches_nodes bad n ts) h)) (same_meanings ts n (or_right (touches bad n t) (touches_nodes bad n ts) h))
