-- A list of statements keeps what its statements keep, with what is pending for it written in it.
use Rattle.std.proofs.Common.{arith, ◌≤◌, ◌+◌, ◌≡◌, ℕ, refl, sym, ap, subst, ◌∙◌, List, [], ◌∷◌, ◌++◌}
use Rattle.std.specs.Prelude.{Bool, true, false, Option, Some, None, map, if◌then◌else◌}
use Rattle.es_tree.specs.Tree.{Tree, Trees, empty, ◌before◌}
use Rattle.es_tree.specs.Words.{Text}
use Rattle.es_semantic.specs.declared.place.Role.{Role}
use Rattle.es_semantic.specs.declared.place.Role.TheVariants.{Binds}
use Rattle.es_semantic.specs.declared.place.Binding.TheVariants.{Variable}
use Rattle.es_resolution.specs.Declarations.{Bound, declared, declared_among}
use Rattle.es_resolution.specs.Named.{Named, NamedAll}
use Rattle.es_steps.specs.Nodes.{joined_trees, declarator}
use Rattle.es_steps.specs.Open.{is_import, after_imports, nothing_pending, no_additions, written, pending_statements, whole_list, with_vars, Pending, Additions}
use Rattle.es_resolution.specs.Resolved.{Place, no_name}
use Rattle.es_resolution.specs.Single.{scopes_among}
use Rattle.es_steps.proofs.Kept.{Change, Known, plain, Adds, Kept, KeptAll}
use Rattle.es_steps.proofs.Kept.Change.{above, below, sealed}
use Rattle.es_steps.proofs.Nodes.{hoisted-right}
use Rattle.es_steps.proofs.Same.{of-tree, left-trees, right-trees, lacks-tree, plain-agree, any-parameters, same, same-all}
use Rattle.es_steps.proofs.Scopes.{no-scopes-all}
use Rattle.es_steps.proofs.Written.{named-joined, join-named, joined-twice, kept-joined, several, scopes-joined, scopes-both, scopes-given, pending_before, pending-joined, more-before, this-before, scopes-before, no-scopes-before}

-- WHERE WHAT IS PENDING STANDS

-- a list with a statement that is no import
abbrev pub goes_on : Trees → Bool
goes_on empty = false
goes_on (t before ts) = if is_import t then goes_on ts else true

pub joined-empty : (ts : Trees) → joined_trees ts empty ≡ ts
joined-empty empty = refl
joined-empty (t before ts) = λ i. t before joined-empty ts i

-- what comes after such a list changes nothing
pub after-joined : (bs us ts : Trees) → goes_on us ≡ true → after_imports bs (joined_trees us ts) ≡ joined_trees (after_imports bs us) ts
after-joined bs empty ts e = absurd (cc e)
after-joined bs (u before us) ts e = at (is_import u) (λ e. after-joined bs us ts e) e
  where
    at : (v : Bool) → (goes_on us ≡ true → after_imports bs (joined_trees us ts) ≡ joined_trees (after_imports bs us) ts) → (if v then goes_on us else true) ≡ true → (if v then u before after_imports bs (joined_trees us ts) else joined_trees bs (u before joined_trees us ts)) ≡ joined_trees (if v then u before after_imports bs us else joined_trees bs (u before us)) ts
    at true h e = λ i. u before h e i
    at false h e = sym (joined-twice bs (u before us) ts)

module _ (u : Text → Bool) (f : ℕ) (r : Role) (bs : Trees) where
  pub after-named : (ts : Trees) → NamedAll u f r (after_imports bs ts) → NamedAll u f r bs × NamedAll u f r ts
  after-named empty h = (h, tt)
  after-named (t before ts) h = at (is_import t) (λ k. after-named ts k) h
    where
      at : (v : Bool) → (NamedAll u f r (after_imports bs ts) → NamedAll u f r bs × NamedAll u f r ts) → NamedAll u f r (if v then t before after_imports bs ts else joined_trees bs (t before ts)) → NamedAll u f r bs × NamedAll u f r (t before ts)
      at true rest h = let k = rest h.1 in (k.0, (h.0, k.1))
      at false rest h = named-joined u f r bs (t before ts) h

  pub named-after : (ts : Trees) → NamedAll u f r bs → NamedAll u f r ts → NamedAll u f r (after_imports bs ts)
  named-after empty h k = h
  named-after (t before ts) h k = at (is_import t) (named-after ts h k.1)
    where
      at : (v : Bool) → NamedAll u f r (after_imports bs ts) → NamedAll u f r (if v then t before after_imports bs ts else joined_trees bs (t before ts))
      at true rest = (k.0, rest)
      at false rest = join-named u f r bs (t before ts) h k

-- WHAT IS KEPT OF A LIST

-- where the new names are added to the statements bs, which become cs
pub record Grows (n : Known) (b : Place) (r : Role) (bs cs : Trees) : Type 0 where
  pub named : NamedAll n.in_use n.free r bs
  pub more : (ts us : Trees) → NamedAll n.in_use n.free r ts → KeptAll n b above r ts us → KeptAll n b below r (joined_trees bs ts) (joined_trees cs us)
  pub no_scopes : (s : ℕ) (ps : Text → Bool) → n.free ≤ s → scopes_among s ps r cs ≡ 0

-- a list by itself; with these statements written before its first that is no import; and where those take the new names
pub record ListKept (n : Known) (b : Place) (c : Change) (r : Role) (ts us : Trees) : Type 0 where
  pub bare : KeptAll n b c r ts us
  pub with_others : (bs : Trees) → NamedAll n.in_use n.free r bs → KeptAll n b c r (after_imports bs ts) (after_imports bs us)
  pub growing : c ≡ above → (bs cs : Trees) → Grows n b r bs cs → KeptAll n b below r (after_imports bs ts) (after_imports cs us)

module _ (n : Known) (b : Place) (r : Role) where
  -- what stays is kept, whatever changes elsewhere
  above-same : (ts : Trees) → NamedAll n.in_use n.free r ts → KeptAll n b above r ts ts
  above-same ts used =
      let h = same-all (plain n) b r ts used in
      record {
        lexical = refl;
        hoisted = refl;
        named = h.named;
        scopes = λ s ps e. refl;
        new_scopes = λ s ps e. let none = no-scopes-all n.in_use n.free s e ps r ts used in omega arith;
        resolved = λ p q a s v e d. h.resolved p q (plain-agree n p q a) (any-parameters n above p q s) tt e d;
      }

  -- a statement before statements that take the new names
  left-below : (t u : Tree) (ts us : Trees) → Named n.in_use n.free r t → Kept n b above r t u → KeptAll n b below r ts us → ((s : ℕ) (ps : Text → Bool) → n.free ≤ s → scopes_among s ps r us ≡ 0) → KeptAll n b below r (t before ts) (u before us)
  left-below t u ts us used h k none = record {
    lexical = λ i. h.lexical i ++ k.lexical i;
    hoisted = subst (λ (z : List Bound). Adds n (declared true r t ++ declared_among true r ts) (z ++ declared_among true r us)) (sym h.hoisted) (hoisted-right below n (declared true r t) (declared_among true r ts) (declared_among true r us) (lacks-tree n true r t used) k.hoisted);
    named = (h.named, k.named);
    scopes = λ s ps e i. h.scopes s ps e i + k.scopes s ps e i;
    new_scopes = λ s ps e. let m = h.new_scopes s ps e in let z = none s ps e in omega arith;
    resolved = λ p q a s v e d. (h.resolved p q a (λ f. record { used = s.used; new = λ g. s.new (λ m. absurd (cc m)) }) v (of-tree e) d.0, k.resolved p q a s v e d.1);
  }

  grown-scopes : (bs cs : Trees) → Grows n b r bs cs → (ts : Trees) → NamedAll n.in_use n.free r ts → (s : ℕ) (ps : Text → Bool) → n.free ≤ s → scopes_among s ps r (after_imports cs ts) ≡ 0
  grown-scopes bs cs g empty used s ps e = g.no_scopes s ps e
  grown-scopes bs cs g (t before ts) used s ps e = at (is_import t) (grown-scopes bs cs g ts used.1 s ps e)
    where
      at : (v : Bool) → scopes_among s ps r (after_imports cs ts) ≡ 0 → scopes_among s ps r (if v then t before after_imports cs ts else joined_trees cs (t before ts)) ≡ 0
      at true rest = let first = no-scopes-all n.in_use n.free s e ps r (t before empty) (used.0, tt) in omega arith
      at false none = let all = scopes-joined s ps r cs (t before ts) in let first = g.no_scopes s ps e in let rest = no-scopes-all n.in_use n.free s e ps r (t before ts) used in omega arith

  grown : (bs cs : Trees) → Grows n b r bs cs → (ts : Trees) → NamedAll n.in_use n.free r ts → KeptAll n b below r (after_imports bs ts) (after_imports cs ts)
  grown bs cs g empty used = subst (λ (z : Trees). KeptAll n b below r z cs) (joined-empty bs) (subst (λ (z : Trees). KeptAll n b below r (joined_trees bs empty) z) (joined-empty cs) (g.more empty empty tt (above-same empty tt)))
  grown bs cs g (t before ts) used = at (is_import t) (grown bs cs g ts used.1)
    where
      at : (v : Bool) → KeptAll n b below r (after_imports bs ts) (after_imports cs ts) → KeptAll n b below r (if v then t before after_imports bs ts else joined_trees bs (t before ts)) (if v then t before after_imports cs ts else joined_trees cs (t before ts))
      at true rest = right-trees n b below r t (after_imports bs ts) (after_imports cs ts) used.0 (same (plain n) b r t used.0) rest
      at false rest = g.more (t before ts) (t before ts) used (above-same (t before ts) used)

  -- LISTS whose first statement changes, or another

  pub list-left : (c : Change) (t u : Tree) (ts : Trees) → is_import u ≡ is_import t → Named n.in_use n.free r t → NamedAll n.in_use n.free r ts → Kept n b c r t u → ListKept n b c r (t before ts) (u before ts)
  list-left c t u ts alike first used h = record { bare = bare; with_others = others; growing = λ e bs cs g. subst (λ (v : Bool). KeptAll n b below r (after_imports bs (t before ts)) (if v then u before after_imports cs ts else joined_trees cs (u before ts))) (sym alike) (grows e bs cs g (is_import t)) }
    where
      bare : KeptAll n b c r (t before ts) (u before ts)
      bare = left-trees n b c r t u ts used h (same-all (plain n) b r ts used)

      others : (bs : Trees) → NamedAll n.in_use n.free r bs → KeptAll n b c r (after_imports bs (t before ts)) (after_imports bs (u before ts))
      others bs k = subst (λ (v : Bool). KeptAll n b c r (after_imports bs (t before ts)) (if v then u before after_imports bs ts else joined_trees bs (u before ts))) (sym alike) (at (is_import t))
        where
          at : (v : Bool) → KeptAll n b c r (if v then t before after_imports bs ts else joined_trees bs (t before ts)) (if v then u before after_imports bs ts else joined_trees bs (u before ts))
          at true = let rest = named-after n.in_use n.free r bs ts k used in left-trees n b c r t u (after_imports bs ts) rest h (same-all (plain n) b r (after_imports bs ts) rest)
          at false = kept-joined n b c r bs (t before ts) (u before ts) k bare

      grows : c ≡ above → (bs cs : Trees) → Grows n b r bs cs → (v : Bool) → KeptAll n b below r (if v then t before after_imports bs ts else joined_trees bs (t before ts)) (if v then u before after_imports cs ts else joined_trees cs (u before ts))
      grows e bs cs g true = left-below t u (after_imports bs ts) (after_imports cs ts) first (subst (λ (c : Change). Kept n b c r t u) e h) (grown bs cs g ts used) (grown-scopes bs cs g ts used)
      grows e bs cs g false = g.more (t before ts) (u before ts) (first, used) (subst (λ (c : Change). KeptAll n b c r (t before ts) (u before ts)) e bare)

  pub list-right : (c : Change) (t : Tree) (ts us : Trees) → Named n.in_use n.free r t → NamedAll n.in_use n.free r ts → ListKept n b c r ts us → ListKept n b c r (t before ts) (t before us)
  list-right c t ts us first used h = record { bare = bare; with_others = λ bs k. others bs k (is_import t); growing = λ e bs cs g. grows e bs cs g (is_import t) }
    where
      bare : KeptAll n b c r (t before ts) (t before us)
      bare = right-trees n b c r t ts us first (same (plain n) b r t first) h.bare

      others : (bs : Trees) → NamedAll n.in_use n.free r bs → (v : Bool) → KeptAll n b c r (if v then t before after_imports bs ts else joined_trees bs (t before ts)) (if v then t before after_imports bs us else joined_trees bs (t before us))
      others bs k true = right-trees n b c r t (after_imports bs ts) (after_imports bs us) first (same (plain n) b r t first) (h.with_others bs k)
      others bs k false = kept-joined n b c r bs (t before ts) (t before us) k bare

      grows : c ≡ above → (bs cs : Trees) → Grows n b r bs cs → (v : Bool) → KeptAll n b below r (if v then t before after_imports bs ts else joined_trees bs (t before ts)) (if v then t before after_imports cs us else joined_trees cs (t before us))
      grows e bs cs g true = right-trees n b below r t (after_imports bs ts) (after_imports cs us) first (same (plain n) b r t first) (h.growing e bs cs g)
      grows e bs cs g false = g.more (t before ts) (t before us) (first, used) (subst (λ (c : Change). KeptAll n b c r (t before ts) (t before us)) e bare)

  -- statements before it
  pub list-after : (c : Change) (xs ts us : Trees) → NamedAll n.in_use n.free r xs → NamedAll n.in_use n.free r ts → ListKept n b c r ts us → ListKept n b c r (joined_trees xs ts) (joined_trees xs us)
  list-after c empty ts us first used h = h
  list-after c (x before xs) ts us first used h = list-right c x (joined_trees xs ts) (joined_trees xs us) first.0 (join-named n.in_use n.free r xs ts first.1 used) (list-after c xs ts us first.1 used h)

  pub list-same : (ts : Trees) → NamedAll n.in_use n.free r ts → ListKept n b sealed r ts ts
  list-same ts used = record {
    bare = same-all n b r ts used;
    with_others = λ bs k. same-all n b r (after_imports bs ts) (named-after n.in_use n.free r bs ts k used);
    growing = λ e. absurd (cc e);
  }

  -- a statement that becomes some, in a list
  pub list-several : (c : Change) (t : Tree) (us ts : Trees) → is_import t ≡ false → goes_on us ≡ true → NamedAll n.in_use n.free r ts → ListKept n b c r (t before empty) us → ListKept n b c r (t before ts) (joined_trees us ts)
  list-several c t us ts other more used h = record {
    bare = several n b c r (t before empty) us ts used h.bare;
    with_others = λ bs k. over bs bs c (h.with_others bs k);
    growing = λ e bs cs g. over bs cs below (h.growing e bs cs g);
  }
    where
      first-is : (bs : Trees) → joined_trees (after_imports bs (t before empty)) ts ≡ after_imports bs (t before ts)
      first-is bs = (λ i. joined_trees (if other i then t before after_imports bs empty else joined_trees bs (t before empty)) ts) ∙ joined-twice bs (t before empty) ts ∙ sym (λ i. if other i then t before after_imports bs ts else joined_trees bs (t before ts))

      over : (bs cs : Trees) (d : Change) → KeptAll n b d r (after_imports bs (t before empty)) (after_imports cs us) → KeptAll n b d r (after_imports bs (t before ts)) (after_imports cs (joined_trees us ts))
      over bs cs d k =
          subst (λ (z : Trees). KeptAll n b d r z (after_imports cs (joined_trees us ts))) (first-is bs)
          (subst (λ (z : Trees). KeptAll n b d r (joined_trees (after_imports bs (t before empty)) ts) z) (sym (after-joined cs us ts more)) (several n b d r (after_imports bs (t before empty)) (after_imports cs us) ts used k))

-- ALL THAT IS PENDING

-- with the new names among the declarators, or as the name for `this`
module _ (n : Known) (b : Place) (r : Role) (p : Pending) (a : Additions) where
  before-named : (x : Option Bound) (ts : Trees) → NamedAll n.in_use n.free r (pending_statements p x a) → NamedAll n.in_use n.free r ts → NamedAll n.in_use n.free r (pending_before p x a ts)
  before-named x ts used k = subst (λ (z : Trees). NamedAll n.in_use n.free r z) (pending-joined p x a ts) (join-named n.in_use n.free r (pending_statements p x a) ts used k)

  grows-by : (x y : Option Bound) (q : Pending) → NamedAll n.in_use n.free r (pending_statements p x a) →
      ((ts us : Trees) → NamedAll n.in_use n.free r (pending_before p x a ts) → KeptAll n b above r ts us → KeptAll n b below r (pending_before p x a ts) (pending_before q y a us)) →
      ((s : ℕ) (ps : Text → Bool) → n.free ≤ s → scopes_among s ps r (pending_statements q y a) ≡ 0) → Grows n b r (pending_statements p x a) (pending_statements q y a)
  grows-by x y q used more none = record {
    named = used;
    more = λ ts us k h. subst (λ (z : Trees). KeptAll n b below r z (joined_trees (pending_statements q y a) us)) (sym (pending-joined p x a ts)) (subst (λ (z : Trees). KeptAll n b below r (pending_before p x a ts) z) (sym (pending-joined q y a us)) (more ts us (before-named x ts used k) h));
    no_scopes = none;
  }

  grows-vars : (x : Option Bound) → NamedAll n.in_use n.free r (pending_statements p x a) → Grows n b r (pending_statements p x a) (pending_statements (with_vars n.given p) x a)
  grows-vars x used = grows-by x x (with_vars n.given p) used (more-before n b r p x a) none
    where
      none : (s : ℕ) (ps : Text → Bool) → n.free ≤ s → scopes_among s ps r (pending_statements (with_vars n.given p) x a) ≡ 0
      none s ps e =
          let all = scopes-before s ps r (with_vars n.given p) x a empty in
          let old = no-scopes-before n s ps r p x a e used in
          let both = scopes-both s no_name (Binds Variable) p.vars (map declarator n.given) in
          let new = scopes-given s n.given in
          omega arith

  grows-this : (x : Bound) → n.given ≡ x ∷ [] → NamedAll n.in_use n.free r (pending_statements p None a) → Grows n b r (pending_statements p None a) (pending_statements p (Some x) a)
  grows-this x given used = grows-by None (Some x) p used (λ ts us k h. this-before n b r p x a ts us given k h) none
    where
      none : (s : ℕ) (ps : Text → Bool) → n.free ≤ s → scopes_among s ps r (pending_statements p (Some x) a) ≡ 0
      none s ps e =
          let all = scopes-before s ps r p (Some x) a empty in
          let old = no-scopes-before n s ps r p None a e used in
          omega arith

pub whole-same : (n : Known) (b : Place) (c : Change) (r : Role) (p : Pending) (x : Option Bound) (a : Additions) (ts us : Trees) → NamedAll n.in_use n.free r (whole_list p x a ts) → ListKept n b c r ts us → KeptAll n b c r (whole_list p x a ts) (whole_list p x a us)
whole-same n b c r p x a ts us used h = h.with_others (pending_statements p x a) (after-named n.in_use n.free r (pending_statements p x a) ts used).0

pub whole-more : (n : Known) (b : Place) (r : Role) (p : Pending) (x : Option Bound) (a : Additions) (ts us : Trees) → NamedAll n.in_use n.free r (whole_list p x a ts) → ListKept n b above r ts us → KeptAll n b below r (whole_list p x a ts) (whole_list (with_vars n.given p) x a us)
whole-more n b r p x a ts us used h = h.growing refl (pending_statements p x a) (pending_statements (with_vars n.given p) x a) (grows-vars n b r p a x (after-named n.in_use n.free r (pending_statements p x a) ts used).0)

pub whole-this : (n : Known) (b : Place) (r : Role) (p : Pending) (x : Bound) (a : Additions) (ts us : Trees) → n.given ≡ x ∷ [] → NamedAll n.in_use n.free r (whole_list p None a ts) → ListKept n b above r ts us → KeptAll n b below r (whole_list p None a ts) (whole_list p (Some x) a us)
whole-this n b r p x a ts us e used h = h.growing refl (pending_statements p None a) (pending_statements p (Some x) a) (grows-this n b r p a x e (after-named n.in_use n.free r (pending_statements p None a) ts used).0)

pub whole-named : (u : Text → Bool) (f : ℕ) (r : Role) (p : Pending) (x : Option Bound) (a : Additions) (ts : Trees) → NamedAll u f r (whole_list p x a ts) → NamedAll u f r ts
whole-named u f r p x a ts h = (after-named u f r (pending_statements p x a) ts h).1

-- the declarators may be written first
written-before : (p : Pending) (x : Option Bound) (a : Additions) (ts : Trees) → ((bs : Trees) → after_imports bs ts ≡ joined_trees bs ts) → whole_list p x a ts ≡ whole_list nothing_pending x a (whole_list p None no_additions ts)
written-before p x a ts other = other (pending_statements p x a) ∙ pending-joined p x a ts ∙ sym (ap (λ z. whole_list nothing_pending x a z) (other (pending_statements p None no_additions) ∙ pending-joined p None no_additions ts) ∙ by p.vars p.lets)
  where
    by : (vs ls : List Tree) → whole_list nothing_pending x a (written (record { vars = vs; lets = ls }) ts) ≡ pending_before (record { vars = vs; lets = ls }) x a ts
    by [] [] = other (pending_statements nothing_pending x a) ∙ pending-joined nothing_pending x a ts
    by (v ∷ vs) ls = pending-joined nothing_pending x a (written (record { vars = v ∷ vs; lets = ls }) ts)
    by [] (d ∷ ls) = pending-joined nothing_pending x a (written (record { vars = []; lets = d ∷ ls }) ts)

pub written-first : (p : Pending) (x : Option Bound) (a : Additions) (ts : Trees) → whole_list p x a ts ≡ whole_list nothing_pending x a (whole_list p None no_additions ts)
written-first p x a empty = written-before p x a empty (λ bs. sym (joined-empty bs))
written-first p x a (t before ts) = at (is_import t) (written-first p x a ts) refl
  where
    at : (v : Bool) → whole_list p x a ts ≡ whole_list nothing_pending x a (whole_list p None no_additions ts) → is_import t ≡ v → whole_list p x a (t before ts) ≡ whole_list nothing_pending x a (whole_list p None no_additions (t before ts))
    at true rest e = chosen (pending_statements p x a) ts e ∙ (λ i. t before rest i) ∙ sym (ap (λ z. whole_list nothing_pending x a z) (chosen (pending_statements p None no_additions) ts e) ∙ chosen (pending_statements nothing_pending x a) (whole_list p None no_additions ts) e)
      where
        chosen : (bs us : Trees) → is_import t ≡ true → after_imports bs (t before us) ≡ t before after_imports bs us
        chosen bs us e = λ i. if e i then t before after_imports bs us else joined_trees bs (t before us)
    at false rest e = written-before p x a (t before ts) (λ bs i. if e i then t before after_imports bs ts else joined_trees bs (t before ts))
