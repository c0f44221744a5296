-- Steps keep the rules of declared names: by one statement on rules, at whatever places they act.
use Rattle.std.proofs.Common.{◌≡◌, ◌+◌, ℕ, zero, suc, refl, sym, ap, subst, ◌∙◌, List, [], ◌∷◌, ◌++◌, filter}
use Rattle.std.specs.Prelude.{Bool, true, false, Option, Some}
use Rattle.es_tree.specs.Ancestors.{Ancestor}
use Rattle.es_tree.specs.Children.{child_at, only_child}
use Rattle.es_tree.specs.CoreStaticRules.{is_name}
use Rattle.es_tree.specs.DeclaredNames.{Name, declared}
use Rattle.es_tree.specs.HasForm.{has_form, same_type}
use Rattle.es_tree.specs.StaticRules.{has_node, is_constructor_key}
use Rattle.es_tree.specs.Tree.{Tree, node, Label, Fields, done, ◌then◌, Field, one, many, statements, Trees, kind_of}
use Rattle.es_tree.specs.Words.{Text}
use Rattle.es_tree.specs.declared.ast_type.AstType.{AstType}
use Rattle.es_tree.specs.declared.ast_type.AstType.TheVariants.{ArrowFunctionExpression, Identifier, StringLiteral}
use Rattle.es_tree.specs.declared.table.Sort.{Sort}
use Rattle.es_tree.specs.declared.table.Sort.TheVariants.{ArrowFunctionBody as s-ArrowFunctionBody, Expression as s-Expression}
use Rattle.es_resolution.specs.Declarations.{Bound}
use Rattle.es_steps.specs.Open.{Additions, is_import, opened_trees, Pending, pending_statements, whole_list, with_vars, written_body, is_body, Open, OpenFields, OpenField, OpenTrees, opened, finished, finished_fields, finished_field, finished_trees}
use Rattle.es_steps.specs.Slots.{is_slot}
use Rattle.es_steps.specs.Steps.{Whole, Ledger, ledger, Site, Spot, Step, FieldsStep, FieldStep, TreesStep}
use Rattle.es_steps.specs.Steps.Step.{acts, inside}
use Rattle.es_steps.specs.Steps.FieldsStep.{in_first, in_later}
use Rattle.es_steps.specs.Steps.FieldStep.{in_child, in_body, in_children, in_list, in_target, in_program, acts_on_body, acts_on_list}
use Rattle.es_steps.specs.Steps.TreesStep.{in_head, in_tail, in_flanked, after_flanked, flanks, acts_on_flanked}
use Rattle.es_steps.proofs.FormLists.{IsPlain, IsPlainList, body-inside as formed-inside, narrower}
use Rattle.es_steps.proofs.FormOpen.{IsProper, AreProperFields, IsProperField, AreProperTrees}
use Rattle.es_steps.proofs.FormRules.{FormLawful, no-names}
use Rattle.es_steps.proofs.FormSteps.{formed-after}
use Rattle.es_steps.proofs.Kept.{Each}
use Rattle.es_steps.proofs.Opened.{finished-opened, finished-trees}
use Rattle.es_valid_steps.proofs.Changed.{is-name}
use Rattle.es_valid_steps.proofs.FieldForms.{ArrowAt, FieldHas, FieldsHave, TreesHave, arrow-first, arrow-next, arrow-zero, node-have, rest-have}
use Rattle.es_valid_names.proofs.Claims.{Around, Clear, ClearAll, ClearBy, ClearIn, Stand, above, around_in, claims, claims_all, claims_by, claims_in, elsewhere, has_private, in_body as in_class, is_owned, is_owner, outside, owned, push, stand_in}
use Rattle.es_valid_names.proofs.ClearNodes.{SameShape, SameShapes, declared-fields, face-claims, face-kept, own-kept, push-both, same-shape, same-shapes, stand-kept, wrong-kept}
use Rattle.es_valid_names.proofs.ClearPending.{AroundGrown, IsFresh, after-clear, around-more, around-same, body-clear, body-grown, clear-body, list-grown, same-this, same-top, whole-clear, with-more}
use Rattle.es_valid_names.proofs.ClearRules.{NameLawful, NewNames, nothing-new, use_in}
use Rattle.es_valid_names.proofs.Grown.{Grown, grown-both, grown-self}
use Rattle.es_valid_names.proofs.MoreAround.{Allows, allows-in, clear-more, clear-more-all, clear-more-by, clear-more-in, private-grown, wrong-less}

-- WHAT A STEP LEAVES

pub record TreeKept (s s' : Ledger) (t u : Tree) : Type 0 where
  pub grown : (up : List Ancestor) → Grown (use_in s) (use_in s') (claims is_owned up t) (claims is_owned up u)
  pub clear : (c d : Around) → c.used ≡ use_in s → d.used ≡ use_in s' → Allows c d → (st : Stand) → Clear c st t → Clear d st u
  pub name : same_type (kind_of u) Identifier ≡ same_type (kind_of t) Identifier
  pub key : is_constructor_key (Some u) ≡ true → is_constructor_key (Some t) ≡ true
  pub imports : is_import u ≡ is_import t
  pub names : NewNames s s'

pub record TreesKept (s s' : Ledger) (ts us : Trees) : Type 0 where
  pub grown : (up : List Ancestor) → Grown (use_in s) (use_in s') (claims_all is_owned up ts) (claims_all is_owned up us)
  pub around : AroundGrown (use_in s) (use_in s') ts us
  pub clear : (c d : Around) → c.used ≡ use_in s → d.used ≡ use_in s' → Allows c d → (st : Stand) → ClearAll c st ts → ClearAll d st us
  pub some : has_node (many us) ≡ has_node (many ts)
  pub names : NewNames s s'

-- where the body of an arrow may stand, what is there is no name and no key
pub record FieldKept (k : AstType) (i : ℕ) (b : Bool) (s s' : Ledger) (f g : Field) : Type 0 where
  pub grown : (l : Label) (all : Fields) (m : ℕ) (up : List Ancestor) → Grown (use_in s) (use_in s') (claims_by is_owned (above k l all i m ∷ up) f) (claims_by is_owned (above k l all i m ∷ up) g)
  pub clear : (c d : Around) → c.used ≡ use_in s → d.used ≡ use_in s' → Allows c d → (st : Stand) → (b ≡ true → st ≡ elsewhere) → ClearBy c st f → ClearBy d st g
  pub shape : SameShape f g
  pub name : b ≡ false → is_name (only_child g) ≡ is_name (only_child f)
  pub key : b ≡ false → is_constructor_key (only_child g) ≡ true → is_constructor_key (only_child f) ≡ true
  pub names : NewNames s s'

pub record FieldsKept (k : AstType) (i : ℕ) (b : Bool) (s s' : Ledger) (fs gs : Fields) : Type 0 where
  pub grown : (l : Label) (all : Fields) (m : ℕ) (up : List Ancestor) → Grown (use_in s) (use_in s') (claims_in is_owned up k l all m i fs) (claims_in is_owned up k l all m i gs)
  pub clear : (c d : Around) → c.used ≡ use_in s → d.used ≡ use_in s' → Allows c d → (ga gb : List (List Name)) → ((x : Text) → has_private ga x ≡ true → has_private gb x ≡ true) → (st : Stand) (all all' : Fields) → ((j : ℕ) → stand_in st k all j ≡ stand_in st k all' j) → ClearIn c ga st k all i fs → ClearIn d gb st k all' i gs
  pub shapes : SameShapes fs gs
  pub name : b ≡ false → is_name (child_at 0 gs) ≡ is_name (child_at 0 fs)
  pub key : b ≡ false → is_constructor_key (child_at 0 gs) ≡ true → is_constructor_key (child_at 0 fs) ≡ true
  pub names : NewNames s s'

pub no-first-body : (k : AstType) → is_body k 0 ≡ false
no-first-body ArrowFunctionExpression = refl
no-first-body _ = refl

-- where it stands no rule asks
pub arrow-stand : (st : Stand) (k : AstType) (all : Fields) (i : ℕ) → ArrowAt k i → stand_in st k all i ≡ elsewhere
arrow-stand st k all i h = λ j. stand_in st (h.kind j) all (h.index j)

pub in-used : (c : Around) (b : Bool) (gs : List (List Name)) → (around_in c b gs).used ≡ c.used
in-used c true gs = refl
in-used c false gs = refl

-- A NODE whose fields took a step

pub inside-grown : (s s' : Ledger) (k : AstType) (l : Label) (fs gs : Fields) → FieldsKept k 0 (is_body k 0) s s' fs gs → (up : List Ancestor) (m : ℕ) → Grown (use_in s) (use_in s') (claims_in is_owned up k l fs m 0 fs) (claims_in is_owned up k l gs m 0 gs)
inside-grown s s' k l fs gs r up m = subst (λ (hs : List (List Name)). Grown (use_in s) (use_in s') (claims_in is_owned up k l fs m 0 fs) hs) (face-claims up k l fs gs m 0 gs (face-kept fs gs (r.name (no-first-body k)))) (r.grown l fs m up)

pub in-node : (s s' : Ledger) (k : AstType) (l : Label) (fs gs : Fields) → FieldsKept k 0 (is_body k 0) s s' fs gs → TreeKept s s' (node k l fs) (node k l gs)
in-node s s' k l fs gs r =
    let inside = inside-grown s s' k l fs gs r in
    record {
      grown = λ up. subst (λ (g : List Name). Grown (use_in s) (use_in s') (push (filter is_owned (declared up (node k l fs))) (claims_in is_owned up k l fs 0 0 fs)) (push (filter is_owned g) (claims_in is_owned up k l gs 0 0 gs))) (declared-fields up k l fs gs) (push-both (filter is_owned (declared up (node k l fs))) (inside up 0));
      clear = λ c d e g m st h. (
        own-kept c d (use_in s) (use_in s') e g r.names.more (is_owner k) (inside (outside st k) 1) h.0,
        wrong-less c d m st k l gs (wrong-kept c st k l fs gs r.shapes (r.key (no-first-body k)) h.1),
        r.clear c d e g m (owned st k l fs) (owned st k l gs) (private-grown (inside (outside st k) 1)) st fs gs (λ j. stand-kept st k fs gs j r.shapes) h.2,
      );
      name = refl;
      key = same-key k;
      imports = refl;
      names = r.names;
    }
  where
    same-key : (k : AstType) → is_constructor_key (Some (node k l gs)) ≡ true → is_constructor_key (Some (node k l fs)) ≡ true
    same-key Identifier e = e
    same-key StringLiteral e = e
    same-key _ e = absurd (cc e)

-- the same with other fields around, which say as much of where it stands
pub moved-stands : (c : Around) (gs : List (List Name)) (st : Stand) (k : AstType) (all all' : Fields) (i : ℕ) (fs : Fields) → ((j : ℕ) → stand_in st k all j ≡ stand_in st k all' j) → ClearIn c gs st k all i fs → ClearIn c gs st k all' i fs
moved-stands c gs st k all all' i done e h = tt
moved-stands c gs st k all all' i (f then fs) e h = (subst (λ (z : Stand). ClearBy (around_in c (in_class k i) gs) z f) (e i) h.0, moved-stands c gs st k all all' (suc i) fs e h.1)

-- FIELDS

same-field : (k : AstType) (i : ℕ) (b : Bool) (s s' : Ledger) (f : Field) → s ≡ s' → FieldKept k i b s s' f f
same-field k i b s s' f e = record {
  grown = λ l all m up. grown-self (claims_by is_owned (above k l all i m ∷ up) f);
  clear = λ c d g h m st p q. clear-more-by c d m st f q;
  shape = same-shape f;
  name = λ g. refl;
  key = λ g h. h;
  names = nothing-new s s' e;
}

-- a list with what is pending for it, after a step in the list
list-kept : (k : AstType) (i : ℕ) (v : Bool) (w w' : Whole) (o p q : Pending) (x x' y y' : Option Bound) (a a' b b' : Additions) (bs : List Bound) (ts us : Trees) → IsPlainList p y b → q ≡ with_vars bs p → y' ≡ y → b' ≡ b → x' ≡ x → a' ≡ a → Each (IsFresh w.in_use w'.in_use) bs → ((z : Text) → w.in_use z ≡ true → w'.in_use z ≡ true) →
    AroundGrown w.in_use w'.in_use ts us → ((c d : Around) → c.used ≡ w.in_use → d.used ≡ w'.in_use → Allows c d → (st : Stand) → ClearAll c st ts → ClearAll d st us) → FieldKept k i v (ledger w o x a) (ledger w' o x' a') (statements (whole_list p y b ts)) (statements (whole_list q y' b' us))
list-kept k i v w w' o p q x x' y y' a a' b b' bs ts us plain e f g this top fresh more around clear = record {
  grown = λ l all m up. list-grown w.in_use w'.in_use p q y y' b b' bs ts us plain.vars e (same-this w.in_use w'.in_use y y' f) (same-top w.in_use w'.in_use b b' g) fresh around (above k l all i m ∷ up);
  clear = λ c d h j m st r n. whole-clear d st q y' b' us (plain.vars.names ++ bs) (with-more w.in_use w'.in_use p q plain.vars.names bs plain.vars.are e) (g ∙ plain.top) (clear c d h j m st (after-clear c st (pending_statements p y b) ts n));
  shape = record { single = refl; some = refl };
  name = λ h. refl;
  key = λ h j. j;
  names = record { names = []; pending = no-names o; this = this; top = top; fresh = tt; more = more };
}

-- the body of an arrow, after a step in the expression that it is
body-kept : (k : AstType) (i : ℕ) (v : Bool) (w w' : Whole) (o p q : Pending) (x x' : Option Bound) (a a' : Additions) (bs : List Bound) (t u : Tree) → v ≡ true → ArrowAt k i → IsPlain p → q ≡ with_vars bs p → x' ≡ x → a' ≡ a → Each (IsFresh w.in_use w'.in_use) bs → ((z : Text) → w.in_use z ≡ true → w'.in_use z ≡ true) → has_form s-Expression t ≡ true → has_form s-Expression u ≡ true →
    ((c d : Around) → c.used ≡ w.in_use → d.used ≡ w'.in_use → Allows c d → (st : Stand) → Clear c st t → Clear d st u) → FieldKept k i v (ledger w o x a) (ledger w' o x' a') (one (written_body p t)) (one (written_body q u))
body-kept k i v w w' o p q x x' a a' bs t u here at plain e this top fresh more f g clear = record {
  grown = λ l all m up.
      let G : AstType → ℕ → Type 0 = λ j n. Grown w.in_use w'.in_use (claims is_owned (above j l all n m ∷ up) (written_body p t)) (claims is_owned (above j l all n m ∷ up) (written_body q u)) in
      subst (λ (j : AstType). G j i) (sym at.kind) (subst (λ (n : ℕ). G ArrowFunctionExpression n) (sym at.index) (body-grown w.in_use w'.in_use l all m up p q bs t u plain e fresh f g));
  clear = λ c d h j m st r n.
      subst (λ (z : Stand). Clear d z (written_body q u)) (sym (r here))
      (body-clear d q u (plain.names ++ bs) (with-more w.in_use w'.in_use p q plain.names bs plain.are e)
      (clear c d h j m elsewhere (clear-body c p t plain (subst (λ (z : Stand). Clear c z (written_body p t)) (r here) n))));
  shape = record { single = refl; some = refl };
  name = λ h. absurd (cc (here, h));
  key = λ h j. absurd (cc (here, h));
  names = record { names = []; pending = no-names o; this = this; top = top; fresh = tt; more = more };
}

-- STEPS

module _ (R : Site → Ledger → Spot → Ledger → Spot → Type 0) (form : FormLawful R) (law : NameLawful R) where
  mutual
    pub kept-after : {n : Site} {s s' : Ledger} {t u : Open} → Step R n s t s' u → (a : Sort) → (is_slot n.above ≡ true → a ≡ s-Expression) → IsProper t → has_form a (finished t) ≡ true → TreeKept s s' (finished t) (finished u)
    kept-after (acts {n = n} {s = s} {s' = s'} t u h) a slot proper f =
        let formed = subst (λ (x : Tree). has_form a x ≡ true) (finished-opened t) f in
        let r = law.at_nodes n s s' t u a slot h formed (form.at_nodes n s s' t u a slot h formed).formed in
        subst (λ (x : Tree). TreeKept s s' x (finished (opened u))) (sym (finished-opened t)) (subst (λ (y : Tree). TreeKept s s' t y) (sym (finished-opened u))
        (record { grown = r.grown; clear = r.clear; name = r.name; key = r.key; imports = r.imports; names = r.names }))
    kept-after (inside {n = n} {s = s} {s' = s'} {k = k} {l = l} {fs = fs} {gs = gs} h) a slot proper f =
        in-node s s' k l (finished_fields fs) (finished_fields gs) (fields-after h k (is_body k) 0 (arrow-first k) proper (node-have n a k l fs f))

    pub fields-after : {c : ℕ → Site} {s s' : Ledger} {fs gs : OpenFields} → FieldsStep R c s fs s' gs → (k : AstType) (bodies : ℕ → Bool) (i : ℕ) → ((j : ℕ) → bodies j ≡ true → ArrowAt k (i + j)) → AreProperFields bodies fs → FieldsHave k c bodies (finished_fields fs) → FieldsKept k i (bodies zero) s s' (finished_fields fs) (finished_fields gs)
    fields-after (in_first {c = c} {s = s} {s' = s'} {f = x} {g = y} {fs = fs} h) k bodies i arrows proper has =
        let r = field-after h k (bodies zero) i (arrow-zero bodies k i arrows) proper.0 has.0 in
        let rest = finished_fields fs in
        record {
          grown = λ l all m up. grown-both (r.grown l all m up) (grown-self (claims_in is_owned up k l all m (suc i) rest));
          clear = λ a b e g m ga gb p st all all' stands q. (
            subst (λ (z : Stand). ClearBy (around_in b (in_class k i) gb) z (finished_field y)) (stands i)
                (r.clear (around_in a (in_class k i) ga) (around_in b (in_class k i) gb) (in-used a (in_class k i) ga ∙ e) (in-used b (in_class k i) gb ∙ g) (allows-in a b (in_class k i) ga gb m p) (stand_in st k all i) (λ v. arrow-stand st k all i (arrow-zero bodies k i arrows v)) q.0),
            moved-stands b gb st k all all' (suc i) rest stands (clear-more-in a b m ga gb p st k all (suc i) rest q.1),
          );
          shapes = (r.shape, same-shapes rest);
          name = r.name;
          key = r.key;
          names = r.names;
        }
    fields-after (in_later {c = c} {s = s} {s' = s'} {f = x} {fs = fs} {gs = gs} h) k bodies i arrows proper has =
        let r = fields-after h k (λ j. bodies (suc j)) (suc i) (arrow-next bodies k i arrows) proper.1 has.1 in
        let first = finished_field x in
        record {
          grown = λ l all m up. grown-both (grown-self (claims_by is_owned (above k l all i m ∷ up) first)) (r.grown l all m up);
          clear = λ a b e g m ga gb p st all all' stands q. (
            subst (λ (z : Stand). ClearBy (around_in b (in_class k i) gb) z first) (stands i) (clear-more-by (around_in a (in_class k i) ga) (around_in b (in_class k i) gb) (allows-in a b (in_class k i) ga gb m p) (stand_in st k all i) first q.0),
            r.clear a b e g m ga gb p st all all' stands q.1,
          );
          shapes = (same-shape first, r.shapes);
          name = λ e. refl;
          key = λ e d. d;
          names = r.names;
        }

    field-after : {n : Site} {s s' : Ledger} {f g : OpenField} → FieldStep R n s f s' g → (k : AstType) (b : Bool) (i : ℕ) → (b ≡ true → ArrowAt k i) → IsProperField b f → FieldHas k n b (finished_field f) → FieldKept k i b s s' (finished_field f) (finished_field g)
    field-after (in_child {n = n} {t = t} {u = u} h) k b i arrow proper has =
        let r = kept-after h has.sort has.slot proper has.formed in
        record { grown = λ l all m up. r.grown (above k l all i m ∷ up); clear = λ c d e g m st p q. r.clear c d e g m st q; shape = record { single = refl; some = refl }; name = λ e. is-name (finished u) ∙ r.name ∙ sym (is-name (finished t)); key = λ e d. r.key d; names = r.names }
    field-after (in_children {ts = ts} {us = us} h) k b i arrow proper has =
        let r = trees-after h has.no_slot proper has.trees in
        record { grown = λ l all m up. r.grown (above k l all i m ∷ up); clear = λ c d e g m st p q. r.clear c d e g m st q; shape = record { single = refl; some = r.some }; name = λ e. refl; key = λ e d. d; names = r.names }
    field-after (in_body {w = w} {w' = w'} {o = o} {p = p} {q = q} {x = x} {x' = x'} {a = a} {a' = a'} {t = t} {u = u} e y y' h) k b i arrow proper has =
        let sort = has.arrow proper.0 in
        let bare = formed-inside p (finished t) proper.1 (subst (λ (z : Sort). has_form z (written_body p (finished t)) ≡ true) sort has.formed) in
        let r = kept-after h s-ArrowFunctionBody (λ d. sym sort ∙ has.slot d) proper.2 bare in
        let after = formed-after R form h s-ArrowFunctionBody (λ d. sym sort ∙ has.slot d) proper.2 bare in
        body-kept k i b w w' o p q x x' a a' r.names.names (finished t) (finished u) proper.0 (arrow proper.0) proper.1 r.names.pending r.names.this r.names.top r.names.fresh r.names.more (narrower (finished t) y.no_body bare) (narrower (finished u) y'.no_body after.formed) r.clear
    field-after (in_list {w = w} {w' = w'} {o = o} {p = p} {q = q} {x = x} {x' = x'} {y = y} {a = a} {a' = a'} {b = d} {ts = ts} {us = us} e e' h) k b i arrow proper has =
        let r = trees-after h has.no_slot proper.1 (rest-have (pending_statements p y d) (finished_trees ts) has.trees) in
        list-kept k i b w w' o p q x x' y y a a' d d r.names.names (finished_trees ts) (finished_trees us) proper.0 r.names.pending refl refl r.names.this r.names.top r.names.fresh r.names.more r.around r.clear
    field-after (in_target {w = w} {w' = w'} {o = o} {p = p} {q = q} {x = x} {y = y} {y' = y'} {a = a} {a' = a'} {b = d} {ts = ts} {us = us} e h) k b i arrow proper has =
        let r = trees-after h has.no_slot proper.1 (rest-have (pending_statements p y d) (finished_trees ts) has.trees) in
        list-kept k i b w w' o p q x x y y' a a' d d r.names.names (finished_trees ts) (finished_trees us) proper.0 r.names.pending r.names.this refl refl r.names.top r.names.fresh r.names.more r.around r.clear
    field-after (in_program {w = w} {w' = w'} {o = o} {p = p} {q = q} {x = x} {y = y} {y' = y'} {a = a} {b = d} {b' = d'} {ts = ts} {us = us} e h) k b i arrow proper has =
        let r = trees-after h has.no_slot proper.1 (rest-have (pending_statements p y d) (finished_trees ts) has.trees) in
        list-kept k i b w w' o p q x x y y' a a d d' r.names.names (finished_trees ts) (finished_trees us) proper.0 r.names.pending r.names.this r.names.top refl refl r.names.fresh r.names.more r.around r.clear
    field-after (acts_on_list {n = n} {s = s} {s' = s'} {p = p} {q = q} {x = x} {y = y} {a = a} {b = d} ts us h) k b i arrow proper has =
        let found = form.at_lists n s s' p q x y a d ts us h proper.0 in
        let same = ap (λ vs. whole_list p x a vs) (finished-trees ts) ∙ found.trees ∙ sym (ap (λ vs. whole_list q y d vs) (finished-trees us)) in
        subst (λ (vs : Trees). FieldKept k i b s s' (statements (whole_list p x a (finished_trees (opened_trees ts)))) (statements vs)) same (same-field k i b s s' (statements (whole_list p x a (finished_trees (opened_trees ts)))) found.ledger)
    field-after (acts_on_body {n = n} {s = s} {s' = s'} {p = p} t u h) k b i arrow proper has =
        let found = form.at_bodies n s s' p t u h in
        let same = ap (λ x. written_body p x) (finished-opened t) ∙ found.1 ∙ sym (finished-opened u) in
        subst (λ (y : Tree). FieldKept k i b s s' (one (written_body p (finished (opened t)))) (one y)) same (same-field k i b s s' (one (written_body p (finished (opened t)))) found.0)

    trees-after : {n : Site} {s s' : Ledger} {ts us : OpenTrees} → TreesStep R n s ts s' us → (is_slot n.above ≡ true → ⊥) → AreProperTrees ts → TreesHave (finished_trees ts) → TreesKept s s' (finished_trees ts) (finished_trees us)
    trees-after (in_head {s = s} {s' = s'} {t = t} {u = u} {ts = ts} h) slot proper has =
        let r = kept-after h has.0.sort (λ e. absurd (slot e)) proper.0 has.0.formed in
        let rest = finished_trees ts in
        record {
          grown = λ up. grown-both (r.grown up) (grown-self (claims_all is_owned up rest));
          around = around-more (use_in s) (use_in s') (finished t) (finished u) rest rest r.imports r.grown (λ up. grown-self (claims_all is_owned up rest)) (around-same (use_in s) (use_in s') rest);
          clear = λ c d e g m st q. (r.clear c d e g m st q.0, clear-more-all c d m st rest q.1);
          some = refl;
          names = r.names;
        }
    trees-after (in_tail {s = s} {s' = s'} {t = t} {ts = ts} {us = us} h) slot proper has =
        let r = trees-after h slot proper.1 has.1 in
        record {
          grown = λ up. grown-both (grown-self (claims is_owned up (finished t))) (r.grown up);
          around = around-more (use_in s) (use_in s') (finished t) (finished t) (finished_trees ts) (finished_trees us) refl (λ up. grown-self (claims is_owned up (finished t))) r.grown r.around;
          clear = λ c d e g m st q. (clear-more c d m st (finished t) q.0, r.clear c d e g m st q.1);
          some = refl;
          names = r.names;
        }
    trees-after (in_flanked h) slot proper has = absurd proper
    trees-after (after_flanked h) slot proper has = absurd proper
    trees-after (flanks {n = n} {s = s} {s' = s'} {bs = bs} {cs = cs} t u h) slot proper has = absurd (form.no_flanks n s s' t u bs cs h)
    trees-after (acts_on_flanked t us h) slot proper has = absurd proper
