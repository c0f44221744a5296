-- Steps of rules that pend nothing keep the rules of declared names, where one name may come that no `var` declares: at whatever places
-- they act.
use Rattle.std.proofs.Common.{◌≡◌, ◌+◌, ℕ, zero, suc, refl, sym, ap, subst, ◌∙◌, List, [], ◌∷◌, ◌++◌, filter}
use Rattle.std.specs.Prelude.{Bool, true, false, Option, Some, if◌then◌else◌}
use Rattle.es_tree.specs.Ancestors.{Ancestor}
use Rattle.es_tree.specs.Children.{child_at, only_child}
use Rattle.es_tree.specs.CoreStaticRules.{is_name}
use Rattle.es_tree.specs.DeclaredNames.{Name, declared, is_same_name}
use Rattle.es_tree.specs.HasForm.{has_form}
use Rattle.es_tree.specs.StaticRules.{has_node, is_constructor_key}
use Rattle.es_tree.specs.Tree.{Tree, node, Label, Fields, ◌then◌, Field, one, many, statements, Trees, ◌before◌}
use Rattle.es_tree.specs.Words.{Text}
use Rattle.es_tree.specs.declared.ast_type.AstType.{AstType}
use Rattle.es_tree.specs.declared.ast_type.AstType.TheVariants.{ArrowFunctionExpression, Identifier, StringLiteral}
use Rattle.es_tree.specs.declared.place.Namespace.TheVariants.{Scope}
use Rattle.es_tree.specs.declared.table.Sort.{Sort}
use Rattle.es_tree.specs.declared.table.Sort.TheVariants.{ArrowFunctionBody as s-ArrowFunctionBody, Expression as s-Expression, Program as s-Program}
use Rattle.es_resolution.specs.Declarations.{Bound}
use Rattle.es_steps.specs.Nodes.{joined_trees}
use Rattle.es_steps.specs.Open.{Additions, Pending, after_imports, is_body, is_import, opened_trees, pending_statements, whole_list, written_body, Open, OpenFields, OpenField, OpenTrees, opened, finished, finished_fields, finished_field, finished_trees}
use Rattle.es_steps.specs.Slots.{is_slot}
use Rattle.es_steps.specs.Steps.{Whole, Ledger, ledger, Site, Spot, the_program, Step, FieldsStep, FieldStep, TreesStep}
use Rattle.es_steps.specs.Steps.Spot.{at_node}
use Rattle.es_steps.specs.Steps.Step.{acts, inside}
use Rattle.es_steps.specs.Steps.FieldsStep.{in_first, in_later}
use Rattle.es_steps.specs.Steps.FieldStep.{in_child, in_body, in_children, in_list, in_target, in_program, acts_on_body, acts_on_list}
use Rattle.es_steps.specs.Steps.TreesStep.{in_head, in_tail, in_flanked, after_flanked, flanks, acts_on_flanked}
use Rattle.es_steps.proofs.FormLists.{IsPlain, IsPlainList, body-inside as formed-inside, narrower}
use Rattle.es_steps.proofs.FormOpen.{IsProper, AreProperFields, IsProperField, AreProperTrees}
use Rattle.es_steps.proofs.FormRules.{FormLawful, no-names}
use Rattle.es_steps.proofs.FormSteps.{formed-after}
use Rattle.es_steps.proofs.Opened.{finished-opened, finished-trees}
use Rattle.es_steps.proofs.Taken.{pending_in, this_in, top_in}
use Rattle.es_valid_steps.proofs.Changed.{is-name}
use Rattle.es_valid_steps.proofs.FieldForms.{ArrowAt, FieldHas, FieldsHave, TreesHave, arrow-first, arrow-next, arrow-zero, node-have, rest-have}
use Rattle.es_valid_names.proofs.Claims.{Around, Clear, ClearAll, ClearBy, ClearIn, Distinct, OwnClear, Stand, above, around_in, claims, claims_all, claims_by, claims_in, elsewhere, has_private, in_body as in_class, is_owned, is_owner, outside, owned, push, stand_in}
use Rattle.es_valid_names.proofs.ClearNodes.{SameShape, SameShapes, declared-fields, face-claims, face-kept, same-shape, same-shapes, stand-kept, wrong-kept}
use Rattle.es_valid_names.proofs.ClearPending.{after-clear, body-clear, body-grown, clear-body, whole-clear}
use Rattle.es_valid_names.proofs.ClearRules.{use_in}
use Rattle.es_valid_names.proofs.ClearSteps.{arrow-stand, in-used, moved-stands, no-first-body}
use Rattle.es_valid_names.proofs.MoreAround.{Allows, allows-in, clear-more, clear-more-all, clear-more-by, clear-more-in, wrong-less}
use Rattle.es_valid_names.proofs.NameSteps.{Good, around, top-says}
use Rattle.es_valid_rests.proofs.RestNamesSteps.{Beside, WideLawful, WideNode}
use Rattle.es_valid_rests.proofs.RestNamesTaken.{joined-lists}
use Rattle.es_valid_rests.proofs.RestNamesWide.Wide.{by_vars}
use Rattle.es_valid_rests.proofs.RestNamesWide.{Wide, wide-any, wide-apart, wide-before, wide-behind, wide-private, wide-push, wide-self}

-- WHAT A STEP LEAVES

record TreesWide (s s' : Ledger) (ts us : Trees) : Type 0 where
  wide : (up : List Ancestor) → Wide (use_in s) (use_in s') (claims_all is_owned up ts) (claims_all is_owned up us)
  behind : (up : List Ancestor) (bs : Trees) → Wide (use_in s) (use_in s') (claims_all is_owned up (after_imports bs ts)) (claims_all is_owned up (after_imports bs us))
  clear : (c d : Around) → c.used ≡ use_in s → d.used ≡ use_in s' → Allows c d → (st : Stand) → ClearAll c st ts → ClearAll d st us
  some : has_node (many us) ≡ has_node (many ts)
  beside : Beside s s'

record FieldWide (k : AstType) (i : ℕ) (b : Bool) (s s' : Ledger) (f g : Field) : Type 0 where
  wide : (l : Label) (all : Fields) (m : ℕ) (up : List Ancestor) → Wide (use_in s) (use_in s') (claims_by is_owned (above k l all i m ∷ up) f) (claims_by is_owned (above k l all i m ∷ up) g)
  clear : (c d : Around) → c.used ≡ use_in s → d.used ≡ use_in s' → Allows c d → (st : Stand) → (b ≡ true → st ≡ elsewhere) → ClearBy c st f → ClearBy d st g
  shape : SameShape f g
  name : b ≡ false → is_name (only_child g) ≡ is_name (only_child f)
  key : b ≡ false → is_constructor_key (only_child g) ≡ true → is_constructor_key (only_child f) ≡ true
  beside : Beside s s'

record FieldsWide (k : AstType) (i : ℕ) (b : Bool) (s s' : Ledger) (fs gs : Fields) : Type 0 where
  wide : (l : Label) (all : Fields) (m : ℕ) (up : List Ancestor) → Wide (use_in s) (use_in s') (claims_in is_owned up k l all m i fs) (claims_in is_owned up k l all m i gs)
  clear : (c d : Around) → c.used ≡ use_in s → d.used ≡ use_in s' → Allows c d → (ga gb : List (List Name)) → ((x : Text) → has_private ga x ≡ true → has_private gb x ≡ true) → (st : Stand) (all all' : Fields) → ((j : ℕ) → stand_in st k all j ≡ stand_in st k all' j) → ClearIn c ga st k all i fs → ClearIn d gb st k all' i gs
  shapes : SameShapes fs gs
  name : b ≡ false → is_name (child_at 0 gs) ≡ is_name (child_at 0 fs)
  key : b ≡ false → is_constructor_key (child_at 0 gs) ≡ true → is_constructor_key (child_at 0 fs) ≡ true
  beside : Beside s s'

nothing-beside : (s s' : Ledger) → s ≡ s' → Beside s s'
nothing-beside s s' e = record { pending = sym (ap (λ r. pending_in r) e); this = sym (ap (λ r. this_in r) e); top = sym (ap (λ r. top_in r) e); more = λ x h. sym (ap (λ r. use_in r x) e) ∙ h }

-- A NODE whose fields took a step

inside-wide : (s s' : Ledger) (k : AstType) (l : Label) (fs gs : Fields) → FieldsWide k 0 (is_body k 0) s s' fs gs → (up : List Ancestor) (m : ℕ) → Wide (use_in s) (use_in s') (claims_in is_owned up k l fs m 0 fs) (claims_in is_owned up k l gs m 0 gs)
inside-wide s s' k l fs gs r up m = subst (λ (hs : List (List Name)). Wide (use_in s) (use_in s') (claims_in is_owned up k l fs m 0 fs) hs) (face-claims up k l fs gs m 0 gs (face-kept fs gs (r.name (no-first-body k)))) (r.wide l fs m up)

own-wide : (c d : Around) (used used' : Text → Bool) → c.used ≡ used → d.used ≡ used' → ((x : Text) → used x ≡ true → used' x ≡ true) → (b : Bool) {gs hs : List (List Name)} → Wide used used' gs hs → OwnClear c.used b gs → OwnClear d.used b hs
own-wide c d used used' e g more true {gs = gs} {hs = hs} r h = subst (λ (v : Text → Bool). Distinct v [] hs) (sym g) (wide-apart more r (subst (λ (v : Text → Bool). Distinct v [] gs) e h))
own-wide c d used used' e g more false r h = tt

in-node : (s s' : Ledger) (k : AstType) (l : Label) (fs gs : Fields) → FieldsWide k 0 (is_body k 0) s s' fs gs → WideNode s s' (node k l fs) (node k l gs)
in-node s s' k l fs gs r =
    let inside = inside-wide s s' k l fs gs r in
    record {
      wide = λ up. subst (λ (g : List Name). Wide (use_in s) (use_in s') (push (filter is_owned (declared up (node k l fs))) (claims_in is_owned up k l fs 0 0 fs)) (push (filter is_owned g) (claims_in is_owned up k l gs 0 0 gs))) (declared-fields up k l fs gs) (wide-push (filter is_owned (declared up (node k l fs))) (inside up 0));
      clear = λ c d e g m st h. (
        own-wide c d (use_in s) (use_in s') e g r.beside.more (is_owner k) (inside (outside st k) 1) h.0,
        wrong-less c d m st k l gs (wrong-kept c st k l fs gs r.shapes (r.key (no-first-body k)) h.1),
        r.clear c d e g m (owned st k l fs) (owned st k l gs) (wide-private (inside (outside st k) 1)) st fs gs (λ j. stand-kept st k fs gs j r.shapes) h.2,
      );
      name = refl;
      key = same-key k;
      imports = refl;
      beside = r.beside;
    }
  where
    same-key : (k : AstType) → is_constructor_key (Some (node k l gs)) ≡ true → is_constructor_key (Some (node k l fs)) ≡ true
    same-key Identifier e = e
    same-key StringLiteral e = e
    same-key _ e = absurd (cc e)

-- FIELDS

same-one : (k : AstType) (i : ℕ) (b : Bool) (s s' : Ledger) (f : Field) → s ≡ s' → FieldWide k i b s s' f f
same-one k i b s s' f e = record {
  wide = λ l all m up. wide-self (claims_by is_owned (above k l all i m ∷ up) f);
  clear = λ c d g h m st p q. clear-more-by c d m st f q;
  shape = same-shape f;
  name = λ g. refl;
  key = λ g h. h;
  beside = nothing-beside s s' e;
}

-- a list with what is pending for it
list-wide : (k : AstType) (i : ℕ) (v : Bool) (w w' : Whole) (o p q : Pending) (x x' y y' : Option Bound) (a a' b b' : Additions) (ts us : Trees) → IsPlainList p y b → q ≡ p → y' ≡ y → b' ≡ b → x' ≡ x → a' ≡ a → ((z : Text) → w.in_use z ≡ true → w'.in_use z ≡ true) → ((up : List Ancestor) (bs : Trees) → Wide w.in_use w'.in_use (claims_all is_owned up (after_imports bs ts)) (claims_all is_owned up (after_imports bs us))) →
    ((c d : Around) → c.used ≡ w.in_use → d.used ≡ w'.in_use → Allows c d → (st : Stand) → ClearAll c st ts → ClearAll d st us) → FieldWide k i v (ledger w o x a) (ledger w' o x' a') (statements (whole_list p y b ts)) (statements (whole_list q y' b' us))
list-wide k i v w w' o p q x x' y y' a a' b b' ts us plain e f g this top more behind clear = record {
  wide = λ l all m up. subst (λ (bs : Trees). Wide w.in_use w'.in_use (claims_all is_owned (above k l all i m ∷ up) (whole_list p y b ts)) (claims_all is_owned (above k l all i m ∷ up) (after_imports bs us))) (sym (λ j. pending_statements (e j) (f j) (g j))) (behind (above k l all i m ∷ up) (pending_statements p y b));
  clear = λ c d h j m st r n. whole-clear d st q y' b' us plain.vars.names (e ∙ plain.vars.are) (g ∙ plain.top) (clear c d h j m st (after-clear c st (pending_statements p y b) ts n));
  shape = record { single = refl; some = refl };
  name = λ h. refl;
  key = λ h j. j;
  beside = record { pending = refl; this = this; top = top; more = more };
}

-- the body of an arrow
body-wide : (k : AstType) (i : ℕ) (v : Bool) (w w' : Whole) (o p q : Pending) (x x' : Option Bound) (a a' : Additions) (t u : Tree) → v ≡ true → ArrowAt k i → IsPlain p → q ≡ p → x' ≡ x → a' ≡ a → ((z : Text) → w.in_use z ≡ true → w'.in_use z ≡ true) → has_form s-Expression t ≡ true → has_form s-Expression u ≡ true →
    ((c d : Around) → c.used ≡ w.in_use → d.used ≡ w'.in_use → Allows c d → (st : Stand) → Clear c st t → Clear d st u) → FieldWide k i v (ledger w o x a) (ledger w' o x' a') (one (written_body p t)) (one (written_body q u))
body-wide k i v w w' o p q x x' a a' t u here at plain e this top more f g clear =
    record {
      wide = λ l all m up.
          let W : AstType → ℕ → Type 0 = λ j n. Wide w.in_use w'.in_use (claims is_owned (above j l all n m ∷ up) (written_body p t)) (claims is_owned (above j l all n m ∷ up) (written_body q u)) in
          subst (λ (j : AstType). W j i) (sym at.kind) (subst (λ (n : ℕ). W ArrowFunctionExpression n) (sym at.index) (by_vars (body-grown w.in_use w'.in_use l all m up p q [] t u plain (e ∙ no-names p) tt f g)));
      clear = λ c d h j m st r n.
          subst (λ (z : Stand). Clear d z (written_body q u)) (sym (r here))
          (body-clear d q u plain.names (e ∙ plain.are)
          (clear c d h j m elsewhere (clear-body c p t plain (subst (λ (z : Stand). Clear c z (written_body p t)) (r here) n))));
      shape = record { single = refl; some = refl };
      name = λ h. absurd (cc (here, h));
      key = λ h j. absurd (cc (here, h));
      beside = record { pending = refl; this = this; top = top; more = more };
    }

-- STEPS

module _ (R : Site → Ledger → Spot → Ledger → Spot → Type 0) (form : FormLawful R) (law : WideLawful R) where
  -- what stands before the first statement that is no import
  module _ (used used' : Text → Bool) where
    abbrev Behind : Trees → Trees → Type 0
    Behind ts us = (up : List Ancestor) (bs : Trees) → Wide used used' (claims_all is_owned up (after_imports bs ts)) (claims_all is_owned up (after_imports bs us))

    behind-joined : (up : List Ancestor) (bs ts us : Trees) → Wide used used' (claims_all is_owned up ts) (claims_all is_owned up us) → Wide used used' (claims_all is_owned up (joined_trees bs ts)) (claims_all is_owned up (joined_trees bs us))
    behind-joined up bs ts us h = subst (λ (gs : List (List Name)). Wide used used' gs (claims_all is_owned up (joined_trees bs us))) (sym (joined-lists up bs ts)) (subst (λ (gs : List (List Name)). Wide used used' (claims_all is_owned up bs ++ claims_all is_owned up ts) gs) (sym (joined-lists up bs us)) (wide-behind (claims_all is_owned up bs) h))

    head-behind : (t u : Tree) (ts : Trees) → is_import u ≡ is_import t → ((up : List Ancestor) → Wide used used' (claims is_owned up t) (claims is_owned up u)) → Behind (t before ts) (u before ts)
    head-behind t u ts e h up bs = at (is_import t) (is_import u) e
      where
        at : (v w : Bool) → w ≡ v → Wide used used' (claims_all is_owned up (if v then t before after_imports bs ts else joined_trees bs (t before ts))) (claims_all is_owned up (if w then u before after_imports bs ts else joined_trees bs (u before ts)))
        at true true e = wide-before (claims_all is_owned up (after_imports bs ts)) (h up)
        at false false e = behind-joined up bs (t before ts) (u before ts) (wide-before (claims_all is_owned up ts) (h up))
        at true false e = absurd (cc e)
        at false true e = absurd (cc e)

    tail-behind : (t : Tree) (ts us : Trees) → ((up : List Ancestor) → Wide used used' (claims_all is_owned up ts) (claims_all is_owned up us)) → Behind ts us → Behind (t before ts) (t before us)
    tail-behind t ts us h g up bs = at (is_import t)
      where
        at : (v : Bool) → Wide used used' (claims_all is_owned up (if v then t before after_imports bs ts else joined_trees bs (t before ts))) (claims_all is_owned up (if v then t before after_imports bs us else joined_trees bs (t before us)))
        at true = wide-behind (claims is_owned up t) (g up bs)
        at false = behind-joined up bs (t before ts) (t before us) (wide-behind (claims is_owned up t) (h up))

  mutual
    wide-after : {n : Site} {s s' : Ledger} {t u : Open} → Step R n s t s' u → (a : Sort) → (is_slot n.above ≡ true → a ≡ s-Expression) → IsProper t → has_form a (finished t) ≡ true → WideNode s s' (finished t) (finished u)
    wide-after (acts {n = n} {s = s} {s' = s'} t u h) a slot proper f =
        let r = law.at_nodes n s s' t u a h (subst (λ (x : Tree). has_form a x ≡ true) (finished-opened t) f) in
        subst (λ (x : Tree). WideNode s s' x (finished (opened u))) (sym (finished-opened t)) (subst (λ (y : Tree). WideNode s s' t y) (sym (finished-opened u)) r)
    wide-after (inside {n = n} {s = s} {s' = s'} {k = k} {l = l} {fs = fs} {gs = gs} h) a slot proper f =
        in-node s s' k l (finished_fields fs) (finished_fields gs) (fields-after h k (is_body k) 0 (arrow-first k) proper (node-have n a k l fs f))

    fields-after : {c : ℕ → Site} {s s' : Ledger} {fs gs : OpenFields} → FieldsStep R c s fs s' gs → (k : AstType) (bodies : ℕ → Bool) (i : ℕ) → ((j : ℕ) → bodies j ≡ true → ArrowAt k (i + j)) → AreProperFields bodies fs → FieldsHave k c bodies (finished_fields fs) → FieldsWide k i (bodies zero) s s' (finished_fields fs) (finished_fields gs)
    fields-after (in_first {c = c} {s = s} {s' = s'} {f = x} {g = y} {fs = fs} h) k bodies i arrows proper has =
        let r = field-after h k (bodies zero) i (arrow-zero bodies k i arrows) proper.0 has.0 in
        let rest = finished_fields fs in
        record {
          wide = λ l all m up. wide-before (claims_in is_owned up k l all m (suc i) rest) (r.wide l all m up);
          clear = λ a b e g m ga gb p st all all' stands q. (
            subst (λ (z : Stand). ClearBy (around_in b (in_class k i) gb) z (finished_field y)) (stands i)
                (r.clear (around_in a (in_class k i) ga) (around_in b (in_class k i) gb) (in-used a (in_class k i) ga ∙ e) (in-used b (in_class k i) gb ∙ g) (allows-in a b (in_class k i) ga gb m p) (stand_in st k all i) (λ v. arrow-stand st k all i (arrow-zero bodies k i arrows v)) q.0),
            moved-stands b gb st k all all' (suc i) rest stands (clear-more-in a b m ga gb p st k all (suc i) rest q.1),
          );
          shapes = (r.shape, same-shapes rest);
          name = r.name;
          key = r.key;
          beside = r.beside;
        }
    fields-after (in_later {c = c} {s = s} {s' = s'} {f = x} {fs = fs} {gs = gs} h) k bodies i arrows proper has =
        let r = fields-after h k (λ j. bodies (suc j)) (suc i) (arrow-next bodies k i arrows) proper.1 has.1 in
        let first = finished_field x in
        record {
          wide = λ l all m up. wide-behind (claims_by is_owned (above k l all i m ∷ up) first) (r.wide l all m up);
          clear = λ a b e g m ga gb p st all all' stands q. (
            subst (λ (z : Stand). ClearBy (around_in b (in_class k i) gb) z first) (stands i) (clear-more-by (around_in a (in_class k i) ga) (around_in b (in_class k i) gb) (allows-in a b (in_class k i) ga gb m p) (stand_in st k all i) first q.0),
            r.clear a b e g m ga gb p st all all' stands q.1,
          );
          shapes = (same-shape first, r.shapes);
          name = λ e. refl;
          key = λ e d. d;
          beside = r.beside;
        }

    field-after : {n : Site} {s s' : Ledger} {f g : OpenField} → FieldStep R n s f s' g → (k : AstType) (b : Bool) (i : ℕ) → (b ≡ true → ArrowAt k i) → IsProperField b f → FieldHas k n b (finished_field f) → FieldWide k i b s s' (finished_field f) (finished_field g)
    field-after (in_child {n = n} {t = t} {u = u} h) k b i arrow proper has =
        let r = wide-after h has.sort has.slot proper has.formed in
        record { wide = λ l all m up. r.wide (above k l all i m ∷ up); clear = λ c d e g m st p q. r.clear c d e g m st q; shape = record { single = refl; some = refl }; name = λ e. is-name (finished u) ∙ r.name ∙ sym (is-name (finished t)); key = λ e d. r.key d; beside = r.beside }
    field-after (in_children {ts = ts} {us = us} h) k b i arrow proper has =
        let r = trees-after h has.no_slot proper has.trees in
        record { wide = λ l all m up. r.wide (above k l all i m ∷ up); clear = λ c d e g m st p q. r.clear c d e g m st q; shape = record { single = refl; some = r.some }; name = λ e. refl; key = λ e d. d; beside = r.beside }
    field-after (in_body {w = w} {w' = w'} {o = o} {p = p} {q = q} {x = x} {x' = x'} {a = a} {a' = a'} {t = t} {u = u} e y y' h) k b i arrow proper has =
        let sort = has.arrow proper.0 in
        let bare = formed-inside p (finished t) proper.1 (subst (λ (z : Sort). has_form z (written_body p (finished t)) ≡ true) sort has.formed) in
        let r = wide-after h s-ArrowFunctionBody (λ d. sym sort ∙ has.slot d) proper.2 bare in
        let after = formed-after R form h s-ArrowFunctionBody (λ d. sym sort ∙ has.slot d) proper.2 bare in
        body-wide k i b w w' o p q x x' a a' (finished t) (finished u) proper.0 (arrow proper.0) proper.1 r.beside.pending r.beside.this r.beside.top r.beside.more (narrower (finished t) y.no_body bare) (narrower (finished u) y'.no_body after.formed) r.clear
    field-after (in_list {w = w} {w' = w'} {o = o} {p = p} {q = q} {x = x} {x' = x'} {y = y} {a = a} {a' = a'} {b = d} {ts = ts} {us = us} e e' h) k b i arrow proper has =
        let r = trees-after h has.no_slot proper.1 (rest-have (pending_statements p y d) (finished_trees ts) has.trees) in
        list-wide k i b w w' o p q x x' y y a a' d d (finished_trees ts) (finished_trees us) proper.0 r.beside.pending refl refl r.beside.this r.beside.top r.beside.more r.behind r.clear
    field-after (in_target {w = w} {w' = w'} {o = o} {p = p} {q = q} {x = x} {y = y} {y' = y'} {a = a} {a' = a'} {b = d} {ts = ts} {us = us} e h) k b i arrow proper has =
        let r = trees-after h has.no_slot proper.1 (rest-have (pending_statements p y d) (finished_trees ts) has.trees) in
        list-wide k i b w w' o p q x x y y' a a' d d (finished_trees ts) (finished_trees us) proper.0 r.beside.pending r.beside.this refl refl r.beside.top r.beside.more r.behind r.clear
    field-after (in_program {w = w} {w' = w'} {o = o} {p = p} {q = q} {x = x} {y = y} {y' = y'} {a = a} {b = d} {b' = d'} {ts = ts} {us = us} e h) k b i arrow proper has =
        let r = trees-after h has.no_slot proper.1 (rest-have (pending_statements p y d) (finished_trees ts) has.trees) in
        list-wide k i b w w' o p q x x y y' a a d d' (finished_trees ts) (finished_trees us) proper.0 r.beside.pending r.beside.this r.beside.top refl refl r.beside.more r.behind r.clear
    field-after (acts_on_list {n = n} {s = s} {s' = s'} {p = p} {q = q} {x = x} {y = y} {a = a} {b = d} ts us h) k b i arrow proper has =
        let found = form.at_lists n s s' p q x y a d ts us h proper.0 in
        let same = ap (λ vs. whole_list p x a vs) (finished-trees ts) ∙ found.trees ∙ sym (ap (λ vs. whole_list q y d vs) (finished-trees us)) in
        subst (λ (vs : Trees). FieldWide k i b s s' (statements (whole_list p x a (finished_trees (opened_trees ts)))) (statements vs)) same (same-one k i b s s' (statements (whole_list p x a (finished_trees (opened_trees ts)))) found.ledger)
    field-after (acts_on_body {n = n} {s = s} {s' = s'} {p = p} t u h) k b i arrow proper has =
        let found = form.at_bodies n s s' p t u h in
        let same = ap (λ x. written_body p x) (finished-opened t) ∙ found.1 ∙ sym (finished-opened u) in
        subst (λ (y : Tree). FieldWide k i b s s' (one (written_body p (finished (opened t)))) (one y)) same (same-one k i b s s' (one (written_body p (finished (opened t)))) found.0)

    trees-after : {n : Site} {s s' : Ledger} {ts us : OpenTrees} → TreesStep R n s ts s' us → (is_slot n.above ≡ true → ⊥) → AreProperTrees ts → TreesHave (finished_trees ts) → TreesWide s s' (finished_trees ts) (finished_trees us)
    trees-after (in_head {s = s} {s' = s'} {t = t} {u = u} {ts = ts} h) slot proper has =
        let r = wide-after h has.0.sort (λ e. absurd (slot e)) proper.0 has.0.formed in
        let rest = finished_trees ts in
        record { wide = λ up. wide-before (claims_all is_owned up rest) (r.wide up); behind = head-behind (use_in s) (use_in s') (finished t) (finished u) rest r.imports r.wide; clear = λ c d e g m st q. (r.clear c d e g m st q.0, clear-more-all c d m st rest q.1); some = refl; beside = r.beside }
    trees-after (in_tail {s = s} {s' = s'} {t = t} {ts = ts} {us = us} h) slot proper has =
        let r = trees-after h slot proper.1 has.1 in
        record { wide = λ up. wide-behind (claims is_owned up (finished t)) (r.wide up); behind = tail-behind (use_in s) (use_in s') (finished t) (finished_trees ts) (finished_trees us) r.wide r.behind; clear = λ c d e g m st q. (clear-more c d m st (finished t) q.0, r.clear c d e g m st q.1); some = refl; beside = r.beside }
    trees-after (in_flanked h) slot proper has = absurd proper
    trees-after (after_flanked h) slot proper has = absurd proper
    trees-after (flanks {n = n} {s = s} {s' = s'} {bs = bs} {cs = cs} t u h) slot proper has = absurd (form.no_flanks n s s' t u bs cs h)
    trees-after (acts_on_flanked t us h) slot proper has = absurd proper

  -- A PROGRAM, where the rule acts on none
  pub wide-good : ((n : Site) (s s' : Ledger) (t u : Tree) → R n s (at_node t) s' (at_node u) → has_form s-Program t ≡ true → ⊥) → {s s' : Ledger} {t u : Open} → Step R the_program s t s' u → Good s t → Good s' u
  wide-good apart (acts {s = s} {s' = s'} t u h) g = absurd (apart the_program s s' t u h (subst (λ (x : Tree). has_form s-Program x ≡ true) (finished-opened t) g.formed))
  wide-good apart (inside {s = s} {s' = s'} {k = k} {l = l} {fs = fs} {gs = gs} h) g =
      let next = formed-after R form (inside {n = the_program} h) s-Program (λ e. absurd (cc e)) g.proper g.formed in
      let r = fields-after h k (is_body k) 0 (arrow-first k) g.proper (node-have the_program s-Program k l fs g.formed) in
      let old = finished_fields fs in
      let new = finished_fields gs in
      let kept = in-node s s' k l old new r in
      let wide = inside-wide s s' k l old new r (outside elsewhere k) 1 in
      let allows : Allows (around (use_in s) (node k l old)) (around (use_in s') (node k l new)) = record { used = r.beside.more; privates = λ x e. e; top = λ x e. top-says k l new next.formed x ∙ wide-any (is_same_name Scope 1 x) wide (sym (top-says k l old g.formed x) ∙ e) } in
      record { proper = next.proper; formed = next.formed; clear = kept.clear (around (use_in s) (node k l old)) (around (use_in s') (node k l new)) refl refl allows elsewhere g.clear }
