-- Steps of rules, those of arrows among them, keep the rules of declared names, at whatever places they act.
use Rattle.std.proofs.Common.{◌≡◌, ◌+◌, ℕ, zero, suc, refl, sym, ap, subst, ◌∙◌, List, [], ◌∷◌, ◌++◌, filter}
use Rattle.std.specs.Prelude.{◌&&◌, ◌||◌, not, Bool, true, false, Option, Some, if◌then◌else◌, bytes_eq, codes}
use Rattle.es_tree.specs.Ancestors.{Ancestor}
use Rattle.es_tree.specs.Children.{child_at, only_child}
use Rattle.es_tree.specs.CoreStaticRules.{is_name}
use Rattle.es_tree.specs.DeclaredNames.{Name, declared}
use Rattle.es_tree.specs.HasForm.{has_form, same_type}
use Rattle.es_tree.specs.Names.{first_text, flag_at}
use Rattle.es_tree.specs.StaticRules.{has_node, is_accessor_word, is_bad_method, is_constructor_key}
use Rattle.es_tree.specs.Tree.{Tree, node, Label, Fields, ◌then◌, Field, one, many, statements, Trees, empty, ◌before◌, kind_of}
use Rattle.es_tree.specs.Words.{Text}
use Rattle.es_tree.specs.declared.ast_type.AstType.{AstType}
use Rattle.es_tree.specs.declared.ast_type.AstType.TheVariants.{ArrowFunctionExpression, CatchClause, ClassDeclaration, ExportNamedDeclaration, FunctionDeclaration, Identifier, MethodDefinition, StringLiteral, ThisExpression}
use Rattle.es_tree.specs.declared.table.Sort.{Sort}
use Rattle.es_tree.specs.declared.table.Sort.TheVariants.{ArrowFunctionBody as s-ArrowFunctionBody, Expression as s-Expression}
use Rattle.es_resolution.specs.Declarations.{Bound}
use Rattle.es_semantic.proofs.FormEdges.{EdgesAll, EdgesBy, EdgesIn, is_last, same-kind}
use Rattle.es_steps.specs.Open.{Additions, Pending, is_import, opened_trees, pending_statements, whole_list, with_vars, written_body, is_body, Open, OpenFields, OpenField, OpenTrees, opened, finished, finished_fields, finished_field, finished_trees}
use Rattle.es_steps.specs.Slots.{is_slot}
use Rattle.es_steps.specs.Steps.{Whole, Ledger, ledger, Site, Spot, Step, FieldsStep, FieldStep, TreesStep}
use Rattle.es_steps.specs.Steps.Step.{acts, inside}
use Rattle.es_steps.specs.Steps.FieldsStep.{in_first, in_later}
use Rattle.es_steps.specs.Steps.FieldStep.{in_child, in_body, in_children, in_list, in_target, in_program, acts_on_body, acts_on_list}
use Rattle.es_steps.specs.Steps.TreesStep.{in_head, in_tail, in_flanked, after_flanked, flanks, acts_on_flanked}
use Rattle.es_steps.proofs.FormLists.{HasText, IsPlain, body-inside as formed-inside, narrower}
use Rattle.es_steps.proofs.FormRules.{no-names}
use Rattle.es_steps.proofs.FormSteps.{tree-left}
use Rattle.es_steps.proofs.Kept.{Each}
use Rattle.es_steps.proofs.Opened.{finished-opened, finished-trees}
use Rattle.es_steps.proofs.Taken.{this_in}
use Rattle.es_valid_steps.specs.ArrowNodes.{is_kind_within}
use Rattle.es_valid_steps.proofs.Changed.{is-name}
use Rattle.es_valid_steps.proofs.FieldForms.{ArrowAt, FieldHas, FieldsHave, TreesHave, arrow-first, arrow-next, arrow-zero, node-have, rest-have}
use Rattle.es_valid_names.proofs.Claims.{Around, Clear, ClearAll, ClearBy, ClearIn, Stand, above, around_in, claims, claims_all, claims_by, claims_in, elsewhere, has_private, in_body as in_class, is_local, is_owned, is_owner, is_wrong, outside, owned, push, stand_in}
use Rattle.es_valid_names.proofs.ClearNodes.{SameShape, SameShapes, declared-fields, face-claims, face-kept, own-kept, push-both, same-shape, same-shapes, stand-kept, wrong-kept}
use Rattle.es_valid_names.proofs.ClearPending.{AroundGrown, IsFresh, after-clear, around-more, around-same, body-clear, body-grown, clear-body, list-grown, same-top, whole-clear, with-more}
use Rattle.es_valid_names.proofs.ClearRules.{use_in}
use Rattle.es_valid_names.proofs.ClearSteps.{arrow-stand, in-used, moved-stands, no-first-body}
use Rattle.es_valid_names.proofs.Grown.{Grown, grown-both, grown-self}
use Rattle.es_valid_names.proofs.MoreAround.{Allows, allows-in, clear-more, clear-more-all, clear-more-by, clear-more-in, private-grown, wrong-less}
use Rattle.es_valid_arrows.proofs.NameLike.{other-claims}
use Rattle.es_valid_arrows.proofs.NamedEdges.{AreLists, ListField, NoThis, binding, edge-unbound, edges-after, edges-binding, first-binding, is_binding, method-this, no-this, node-lists, this-edge, unlocal}
use Rattle.es_valid_arrows.proofs.NamedRules.{FreshNames, NamedLawful, ThisNames, Unbound, Unlocal, nothing-new, this-names-grown}
use Rattle.es_valid_arrows.proofs.NamedRules.ThisNames.{same_name}
use Rattle.es_valid_arrows.proofs.Wide.{AreWideFields, AreWideTrees, IsListed, IsWide, IsWideField, WideLawful, this_named}

-- WHAT A STEP LEAVES

abbrev AllUnbound : List Ancestor → Trees → Type 0
AllUnbound up empty = Unit {0}
AllUnbound up (t before ts) = Unbound up t × AllUnbound up ts

abbrev AllUnlocal : Stand → Trees → Type 0
AllUnlocal st empty = Unit {0}
AllUnlocal st (t before ts) = Unlocal st t × AllUnlocal st ts

pub record TreeNamed (s s' : Ledger) (t u : Tree) : Type 0 where
  pub grown : (up : List Ancestor) → Unbound up t → Grown (use_in s) (use_in s') (claims is_owned up t) (claims is_owned up u)
  pub clear : (c d : Around) → c.used ≡ use_in s → d.used ≡ use_in s' → Allows c d → (st : Stand) → Unlocal st t → Clear c st t → Clear d st u
  pub name : same_type (kind_of t) ThisExpression ≡ false → same_type (kind_of u) Identifier ≡ same_type (kind_of t) Identifier
  pub key : same_type (kind_of t) ThisExpression ≡ false → is_constructor_key (Some u) ≡ true → is_constructor_key (Some t) ≡ true
  pub imports : is_import u ≡ is_import t
  pub names : FreshNames s s'

record TreesNamed (s s' : Ledger) (ts us : Trees) : Type 0 where
  grown : (up : List Ancestor) → AllUnbound up ts → Grown (use_in s) (use_in s') (claims_all is_owned up ts) (claims_all is_owned up us)
  around : NoThis ts → AroundGrown (use_in s) (use_in s') ts us
  clear : (c d : Around) → c.used ≡ use_in s → d.used ≡ use_in s' → Allows c d → (st : Stand) → AllUnlocal st ts → ClearAll c st ts → ClearAll d st us
  some : has_node (many us) ≡ has_node (many ts)
  names : FreshNames s s'

-- where the body of an arrow may stand, what is there is no name and no key
record FieldNamed (k : AstType) (i : ℕ) (b : Bool) (s s' : Ledger) (f g : Field) : Type 0 where
  grown : (l : Label) (all : Fields) (m : ℕ) (up : List Ancestor) → Grown (use_in s) (use_in s') (claims_by is_owned (above k l all i m ∷ up) f) (claims_by is_owned (above k l all i m ∷ up) g)
  clear : (c d : Around) → c.used ≡ use_in s → d.used ≡ use_in s' → Allows c d → (st : Stand) → (b ≡ true → st ≡ elsewhere) → (is_binding k i ≡ false → is_local st ≡ false) → ClearBy c st f → ClearBy d st g
  shape : SameShape f g
  name : b ≡ false → is_kind_within ThisExpression (only_child f) ≡ false → is_name (only_child g) ≡ is_name (only_child f)
  key : b ≡ false → is_kind_within ThisExpression (only_child f) ≡ false → is_constructor_key (only_child g) ≡ true → is_constructor_key (only_child f) ≡ true
  names : FreshNames s s'

pub record FieldsNamed (k : AstType) (i : ℕ) (b : Bool) (s s' : Ledger) (fs gs : Fields) : Type 0 where
  pub grown : (l : Label) (all : Fields) (m : ℕ) (up : List Ancestor) → Grown (use_in s) (use_in s') (claims_in is_owned up k l all m i fs) (claims_in is_owned up k l all m i gs)
  pub clear : (c d : Around) → c.used ≡ use_in s → d.used ≡ use_in s' → Allows c d → (ga gb : List (List Name)) → ((x : Text) → has_private ga x ≡ true → has_private gb x ≡ true) → (st : Stand) (all all' : Fields) → ((j : ℕ) → stand_in st k all j ≡ stand_in st k all' j) → ClearIn c ga st k all i fs → ClearIn d gb st k all' i gs
  pub shapes : SameShapes fs gs
  pub name : b ≡ false → is_kind_within ThisExpression (child_at 0 fs) ≡ false → is_name (child_at 0 gs) ≡ is_name (child_at 0 fs)
  pub key : b ≡ false → is_kind_within ThisExpression (child_at 0 fs) ≡ false → is_constructor_key (child_at 0 gs) ≡ true → is_constructor_key (child_at 0 fs) ≡ true
  pub names : FreshNames s s'

-- A NODE whose fields took a step

-- the name of a catch clause alone is asked for, and it is no `this`
pub inside-grown : (s s' : Ledger) (k : AstType) (l : Label) (fs gs : Fields) → EdgesIn binding k 0 fs → FieldsNamed k 0 (is_body k 0) s s' fs gs → (up : List Ancestor) (m : ℕ) → Grown (use_in s) (use_in s') (claims_in is_owned up k l fs m 0 fs) (claims_in is_owned up k l gs m 0 gs)
inside-grown s s' k l fs gs stand r up m = subst (λ (hs : List (List Name)). Grown (use_in s) (use_in s') (claims_in is_owned up k l fs m 0 fs) hs) (at (same_type k CatchClause) refl) (r.grown l fs m up)
  where
    clause : k ≡ CatchClause → is_binding k 0 ≡ true
    clause e = ap (λ j. is_binding j 0) e

    at : (b : Bool) → same_type k CatchClause ≡ b → claims_in is_owned up k l fs m 0 gs ≡ claims_in is_owned up k l gs m 0 gs
    at true e = face-claims up k l fs gs m 0 gs (face-kept fs gs (r.name (no-first-body k) (first-binding k fs (clause (same-kind k CatchClause e)) stand)))
    at false e = sym (other-claims up k l fs gs m 0 gs e)

-- where the key of a method is `this`, it is computed, and asked for no more
wrong-left : (a : Sort) (c : Around) (st : Stand) (k : AstType) (l : Label) (fs gs : Fields) → has_form a (node k l fs) ≡ true → EdgesIn binding k 0 fs → SameShapes fs gs → (is_kind_within ThisExpression (child_at 0 fs) ≡ false → is_constructor_key (child_at 0 gs) ≡ true → is_constructor_key (child_at 0 fs) ≡ true) → is_wrong c st k l fs ≡ false → is_wrong c st k l gs ≡ false
wrong-left a c st MethodDefinition l fs gs f stand h g e = at (is_kind_within ThisExpression (child_at 0 fs)) refl
  where
    by-word : (word f0 f1 acc key key' : Bool) → f1 ≡ true → (if word then f0 || f1 else acc && not (f0 || f1) && key) ≡ false → (if word then f0 || f1 else acc && not (f0 || f1) && key') ≡ false
    by-word true f0 f1 acc key key' d h = h
    by-word false f0 false acc key key' d h = absurd (cc d)
    by-word false true true true key key' d h = refl
    by-word false true true false key key' d h = refl
    by-word false false true true key key' d h = refl
    by-word false false true false key key' d h = refl

    at : (b : Bool) → is_kind_within ThisExpression (child_at 0 fs) ≡ b → is_bad_method l gs ≡ false
    at true d = by-word (bytes_eq (first_text l.texts) (codes "constructor")) (flag_at 0 l.flags) (flag_at 1 l.flags) (is_accessor_word (first_text l.texts)) (is_constructor_key (child_at 0 fs)) (is_constructor_key (child_at 0 gs)) (method-this a l fs f d) e
    at false d = wrong-kept c st MethodDefinition l fs gs h (g d) e
wrong-left a c st ExportNamedDeclaration l fs gs f stand h g e = wrong-kept c st ExportNamedDeclaration l fs gs h (g (first-binding ExportNamedDeclaration fs refl stand)) e
wrong-left a c st FunctionDeclaration l fs gs f stand h g e = wrong-kept c st FunctionDeclaration l fs gs h (g (first-binding FunctionDeclaration fs refl stand)) e
wrong-left a c st ClassDeclaration l fs gs f stand h g e = wrong-kept c st ClassDeclaration l fs gs h (g (first-binding ClassDeclaration fs refl stand)) e
wrong-left a c st _ l fs gs f stand h g e = e

pub in-node : (a : Sort) (s s' : Ledger) (k : AstType) (l : Label) (fs gs : Fields) → has_form a (node k l fs) ≡ true → FieldsNamed k 0 (is_body k 0) s s' fs gs → TreeNamed s s' (node k l fs) (node k l gs)
in-node a s s' k l fs gs f r =
    let stand = edges-binding a k l fs f in
    let inside = inside-grown s s' k l fs gs stand r in
    record {
      grown = λ up e. subst (λ (g : List Name). Grown (use_in s) (use_in s') (push (filter is_owned (declared up (node k l fs))) (claims_in is_owned up k l fs 0 0 fs)) (push (filter is_owned g) (claims_in is_owned up k l gs 0 0 gs))) (declared-fields up k l fs gs) (push-both (filter is_owned (declared up (node k l fs))) (inside up 0));
      clear = λ c d e g m st x h. (
        own-kept c d (use_in s) (use_in s') e g r.names.more (is_owner k) (inside (outside st k) 1) h.0,
        wrong-less c d m st k l gs (wrong-left a c st k l fs gs f stand r.shapes (r.key (no-first-body k)) h.1),
        r.clear c d e g m (owned st k l fs) (owned st k l gs) (private-grown (inside (outside st k) 1)) st fs gs (λ j. stand-kept st k fs gs j r.shapes) h.2,
      );
      name = λ e. refl;
      key = λ e. same-key k;
      imports = refl;
      names = r.names;
    }
  where
    same-key : (k : AstType) → is_constructor_key (Some (node k l gs)) ≡ true → is_constructor_key (Some (node k l fs)) ≡ true
    same-key Identifier e = e
    same-key StringLiteral e = e
    same-key _ e = absurd (cc e)

-- FIELDS

same-field : (k : AstType) (i : ℕ) (b : Bool) (s s' : Ledger) (f : Field) → s ≡ s' → FieldNamed k i b s s' f f
same-field k i b s s' f e = record {
  grown = λ l all m up. grown-self (claims_by is_owned (above k l all i m ∷ up) f);
  clear = λ c d g h m st p x q. clear-more-by c d m st f q;
  shape = same-shape f;
  name = λ g d. refl;
  key = λ g d h. h;
  names = nothing-new s s' e;
}

all-unbound : (k : AstType) (l : Label) (all : Fields) (i m : ℕ) (up : List Ancestor) (ts : Trees) → EdgesAll binding k i ts → AllUnbound (above k l all i m ∷ up) ts
all-unbound k l all i m up empty h = tt
all-unbound k l all i m up (t before ts) h = (edge-unbound k l all i m up false t h.0, all-unbound k l all i m up ts h.1)

all-unlocal : (k : AstType) (i : ℕ) (st : Stand) (ts : Trees) → (is_binding k i ≡ false → is_local st ≡ false) → EdgesAll binding k i ts → AllUnlocal st ts
all-unlocal k i st empty x h = tt
all-unlocal k i st (t before ts) x h = (λ e. x (this-edge k i false t h.0 e), all-unlocal k i st ts x h.1)

-- where no `this` stands
free-trees : (up : List Ancestor) (ts : Trees) → NoThis ts → AllUnbound up ts
free-trees up empty h = tt
free-trees up (t before ts) h = (λ e. absurd (let d = h.0 in cc (e, d)), free-trees up ts h.1)

-- a list with what is pending for it, after a step in the list
list-named : (k : AstType) (i : ℕ) (v : Bool) (w w' : Whole) (o p q : Pending) (x x' y y' : Option Bound) (a a' b b' : Additions) (bs : List Bound) (ts us : Trees) → IsListed p y b → q ≡ with_vars bs p → ThisNames w.in_use w'.in_use y y' → b' ≡ b → ThisNames w.in_use w'.in_use x x' → a' ≡ a → Each (IsFresh w.in_use w'.in_use) bs → ((z : Text) → w.in_use z ≡ true → w'.in_use z ≡ true) →
    EdgesAll binding k i ts → AroundGrown w.in_use w'.in_use ts us → ((c d : Around) → c.used ≡ w.in_use → d.used ≡ w'.in_use → Allows c d → (st : Stand) → AllUnlocal st ts → ClearAll c st ts → ClearAll d st us) → FieldNamed k i v (ledger w o x a) (ledger w' o x' a') (statements (whole_list p y b ts)) (statements (whole_list q y' b' us))
list-named k i v w w' o p q x x' y y' a a' b b' bs ts us plain e f g this top fresh more edges around clear = record {
  grown = λ l all m up. list-grown w.in_use w'.in_use p q y y' b b' bs ts us plain.vars e (this-names-grown w.in_use w'.in_use f) (same-top w.in_use w'.in_use b b' g) fresh around (above k l all i m ∷ up);
  clear = λ c d h j m st r n k'. whole-clear d st q y' b' us (plain.vars.names ++ bs) (with-more w.in_use w'.in_use p q plain.vars.names bs plain.vars.are e) (g ∙ plain.top) (clear c d h j m st (all-unlocal k i st ts n edges) (after-clear c st (pending_statements p y b) ts k'));
  shape = record { single = refl; some = refl };
  name = λ h d. refl;
  key = λ h d j. j;
  names = record { names = []; pending = no-names o; this = this; top = top; fresh = tt; more = more };
}

-- the body of an arrow, after a step in the expression that it is
body-named : (k : AstType) (i : ℕ) (v : Bool) (w w' : Whole) (o p q : Pending) (x x' : Option Bound) (a a' : Additions) (bs : List Bound) (t u : Tree) → v ≡ true → ArrowAt k i → IsPlain p → q ≡ with_vars bs p → ThisNames w.in_use w'.in_use x x' → a' ≡ a → Each (IsFresh w.in_use w'.in_use) bs → ((z : Text) → w.in_use z ≡ true → w'.in_use z ≡ true) → has_form s-Expression t ≡ true → has_form s-Expression u ≡ true →
    ((c d : Around) → c.used ≡ w.in_use → d.used ≡ w'.in_use → Allows c d → (st : Stand) → Unlocal st t → Clear c st t → Clear d st u) → FieldNamed k i v (ledger w o x a) (ledger w' o x' a') (one (written_body p t)) (one (written_body q u))
body-named k i v w w' o p q x x' a a' bs t u here at plain e this top fresh more f g clear = record {
  grown = λ l all m up.
      let G : AstType → ℕ → Type 0 = λ j n. Grown w.in_use w'.in_use (claims is_owned (above j l all n m ∷ up) (written_body p t)) (claims is_owned (above j l all n m ∷ up) (written_body q u)) in
      subst (λ (j : AstType). G j i) (sym at.kind) (subst (λ (n : ℕ). G ArrowFunctionExpression n) (sym at.index) (body-grown w.in_use w'.in_use l all m up p q bs t u plain e fresh f g));
  clear = λ c d h j m st r y n.
      subst (λ (z : Stand). Clear d z (written_body q u)) (sym (r here))
      (body-clear d q u (plain.names ++ bs) (with-more w.in_use w'.in_use p q plain.names bs plain.are e)
      (clear c d h j m elsewhere (λ z. refl) (clear-body c p t plain (subst (λ (z : Stand). Clear c z (written_body p t)) (r here) n))));
  shape = record { single = refl; some = refl };
  name = λ h d. absurd (cc (here, h));
  key = λ h d j. absurd (cc (here, h));
  names = record { names = []; pending = no-names o; this = this; top = top; fresh = tt; more = more };
}

-- STEPS

module _ (R : Site → Ledger → Spot → Ledger → Spot → Type 0) (form : WideLawful R) (law : NamedLawful R) where
  mutual
    pub named-after : {n : Site} {s s' : Ledger} {t u : Open} → Step R n s t s' u → HasText (this_in s) → (a : Sort) → (is_slot n.above ≡ true → a ≡ s-Expression) → IsWide t → has_form a (finished t) ≡ true → TreeNamed s s' (finished t) (finished u)
    named-after (acts {n = n} {s = s} {s' = s'} t u h) text a slot wide f =
        let formed = subst (λ (x : Tree). has_form a x ≡ true) (finished-opened t) f in
        let r = law.at_nodes n s s' t u a slot h formed (form.at_nodes n s s' t u a slot h formed text).formed in
        subst (λ (x : Tree). TreeNamed s s' x (finished (opened u))) (sym (finished-opened t)) (subst (λ (y : Tree). TreeNamed s s' t y) (sym (finished-opened u))
        (record { grown = r.grown; clear = r.clear; name = r.name; key = r.key; imports = r.imports; names = r.names }))
    named-after (inside {n = n} {s = s} {s' = s'} {k = k} {l = l} {fs = fs} {gs = gs} h) text a slot wide f =
        in-node a s s' k l (finished_fields fs) (finished_fields gs) f (fields-after h text k (is_body k) 0 (arrow-first k) wide (edges-binding a k l (finished_fields fs) f) (node-lists a k l (finished_fields fs) f) (node-have n a k l fs f))

    pub fields-after : {c : ℕ → Site} {s s' : Ledger} {fs gs : OpenFields} → FieldsStep R c s fs s' gs → HasText (this_in s) → (k : AstType) (bodies : ℕ → Bool) (i : ℕ) → ((j : ℕ) → bodies j ≡ true → ArrowAt k (i + j)) → AreWideFields bodies fs → EdgesIn binding k i (finished_fields fs) → AreLists k i (finished_fields fs) → FieldsHave k c bodies (finished_fields fs) → FieldsNamed k i (bodies zero) s s' (finished_fields fs) (finished_fields gs)
    fields-after (in_first {c = c} {s = s} {s' = s'} {f = x} {g = y} {fs = fs} h) text k bodies i arrows wide edges lists has =
        let r = field-after h text k (bodies zero) i (is_last (finished_fields fs)) (arrow-zero bodies k i arrows) wide.0 edges.0 lists.0 has.0 in
        let rest = finished_fields fs in
        record {
          grown = λ l all m up. grown-both (r.grown l all m up) (grown-self (claims_in is_owned up k l all m (suc i) rest));
          clear = λ a b e g m ga gb p st all all' stands q. (
            subst (λ (z : Stand). ClearBy (around_in b (in_class k i) gb) z (finished_field y)) (stands i)
                (r.clear (around_in a (in_class k i) ga) (around_in b (in_class k i) gb) (in-used a (in_class k i) ga ∙ e) (in-used b (in_class k i) gb ∙ g) (allows-in a b (in_class k i) ga gb m p) (stand_in st k all i) (λ v. arrow-stand st k all i (arrow-zero bodies k i arrows v)) (unlocal st k all i) q.0),
            moved-stands b gb st k all all' (suc i) rest stands (clear-more-in a b m ga gb p st k all (suc i) rest q.1),
          );
          shapes = (r.shape, same-shapes rest);
          name = r.name;
          key = r.key;
          names = r.names;
        }
    fields-after (in_later {c = c} {s = s} {s' = s'} {f = x} {fs = fs} {gs = gs} h) text k bodies i arrows wide edges lists has =
        let r = fields-after h text k (λ j. bodies (suc j)) (suc i) (arrow-next bodies k i arrows) wide.1 edges.1 lists.1 has.1 in
        let first = finished_field x in
        record {
          grown = λ l all m up. grown-both (grown-self (claims_by is_owned (above k l all i m ∷ up) first)) (r.grown l all m up);
          clear = λ a b e g m ga gb p st all all' stands q. (
            subst (λ (z : Stand). ClearBy (around_in b (in_class k i) gb) z first) (stands i) (clear-more-by (around_in a (in_class k i) ga) (around_in b (in_class k i) gb) (allows-in a b (in_class k i) ga gb m p) (stand_in st k all i) first q.0),
            r.clear a b e g m ga gb p st all all' stands q.1,
          );
          shapes = (same-shape first, r.shapes);
          name = λ e d. refl;
          key = λ e d h. h;
          names = r.names;
        }

    field-after : {n : Site} {s s' : Ledger} {f g : OpenField} → FieldStep R n s f s' g → HasText (this_in s) → (k : AstType) (b : Bool) (i : ℕ) (last : Bool) → (b ≡ true → ArrowAt k i) → IsWideField b f → EdgesBy binding k i last (finished_field f) → ListField k i (finished_field f) → FieldHas k n b (finished_field f) → FieldNamed k i b s s' (finished_field f) (finished_field g)
    field-after (in_child {n = n} {t = t} {u = u} h) text k b i last arrow wide edges lists has =
        let r = named-after h text has.sort has.slot wide has.formed in
        record {
          grown = λ l all m up. r.grown (above k l all i m ∷ up) (edge-unbound k l all i m up last (finished t) edges);
          clear = λ c d e g m st p x q. r.clear c d e g m st (λ y. x (this-edge k i last (finished t) edges y)) q;
          shape = record { single = refl; some = refl };
          name = λ e d. is-name (finished u) ∙ r.name d ∙ sym (is-name (finished t));
          key = λ e d h. r.key d h;
          names = r.names;
        }
    field-after (in_children {ts = ts} {us = us} h) text k b i last arrow wide edges lists has =
        let r = trees-after h text has.no_slot wide has.trees in
        record {
          grown = λ l all m up. r.grown (above k l all i m ∷ up) (all-unbound k l all i m up (finished_trees ts) edges);
          clear = λ c d e g m st p x q. r.clear c d e g m st (all-unlocal k i st (finished_trees ts) x edges) q;
          shape = record { single = refl; some = r.some };
          name = λ e d. refl;
          key = λ e d h. h;
          names = r.names;
        }
    field-after (in_body {w = w} {w' = w'} {o = o} {p = p} {q = q} {x = x} {x' = x'} {a = a} {a' = a'} {t = t} {u = u} e y y' h) text k b i last arrow wide edges lists has =
        let sort = has.arrow wide.0 in
        let bare = formed-inside p (finished t) wide.1 (subst (λ (z : Sort). has_form z (written_body p (finished t)) ≡ true) sort has.formed) in
        let r = named-after h text s-ArrowFunctionBody (λ d. sym sort ∙ has.slot d) wide.2 bare in
        let after = tree-left this_named R form h text s-ArrowFunctionBody (λ d. sym sort ∙ has.slot d) wide.2 bare in
        body-named k i b w w' o p q x x' a a' r.names.names (finished t) (finished u) wide.0 (arrow wide.0) wide.1 r.names.pending r.names.this r.names.top r.names.fresh r.names.more (narrower (finished t) y.no_body bare) (narrower (finished u) y'.no_body after.formed) r.clear
    field-after (in_list {w = w} {w' = w'} {o = o} {p = p} {q = q} {x = x} {x' = x'} {y = y} {a = a} {a' = a'} {b = d} {ts = ts} {us = us} e e' h) text k b i last arrow wide edges lists has =
        let r = trees-after h text has.no_slot wide.1 (rest-have (pending_statements p y d) (finished_trees ts) has.trees) in
        let stand = edges-after k i (pending_statements p y d) (finished_trees ts) edges in
        list-named k i b w w' o p q x x' y y a a' d d r.names.names (finished_trees ts) (finished_trees us) wide.0 r.names.pending same_name refl r.names.this r.names.top r.names.fresh r.names.more stand (r.around (no-this k i (finished_trees ts) lists stand)) r.clear
    field-after (in_target {w = w} {w' = w'} {o = o} {p = p} {q = q} {x = x} {y = y} {y' = y'} {a = a} {a' = a'} {b = d} {ts = ts} {us = us} e h) text k b i last arrow wide edges lists has =
        let r = trees-after h wide.0.this has.no_slot wide.1 (rest-have (pending_statements p y d) (finished_trees ts) has.trees) in
        let stand = edges-after k i (pending_statements p y d) (finished_trees ts) edges in
        list-named k i b w w' o p q x x y y' a a' d d r.names.names (finished_trees ts) (finished_trees us) wide.0 r.names.pending r.names.this refl same_name r.names.top r.names.fresh r.names.more stand (r.around (no-this k i (finished_trees ts) lists stand)) r.clear
    field-after (in_program {w = w} {w' = w'} {o = o} {p = p} {q = q} {x = x} {y = y} {y' = y'} {a = a} {b = d} {b' = d'} {ts = ts} {us = us} e h) text k b i last arrow wide edges lists has =
        let r = trees-after h wide.0.this has.no_slot wide.1 (rest-have (pending_statements p y d) (finished_trees ts) has.trees) in
        let stand = edges-after k i (pending_statements p y d) (finished_trees ts) edges in
        list-named k i b w w' o p q x x y y' a a d d' r.names.names (finished_trees ts) (finished_trees us) wide.0 r.names.pending r.names.this r.names.top same_name refl r.names.fresh r.names.more stand (r.around (no-this k i (finished_trees ts) lists stand)) r.clear
    field-after (acts_on_list {n = n} {s = s} {s' = s'} {p = p} {q = q} {x = x} {y = y} {a = a} {b = d} ts us h) text k b i last arrow wide edges lists has =
        let found = form.at_lists n s s' p q x y a d ts us h wide.0 in
        let same = ap (λ vs. whole_list p x a vs) (finished-trees ts) ∙ found.trees ∙ sym (ap (λ vs. whole_list q y d vs) (finished-trees us)) in
        subst (λ (vs : Trees). FieldNamed k i b s s' (statements (whole_list p x a (finished_trees (opened_trees ts)))) (statements vs)) same (same-field k i b s s' (statements (whole_list p x a (finished_trees (opened_trees ts)))) found.ledger)
    field-after (acts_on_body {n = n} {s = s} {s' = s'} {p = p} t u h) text k b i last arrow wide edges lists has =
        let found = form.at_bodies n s s' p t u h in
        let same = ap (λ x. written_body p x) (finished-opened t) ∙ found.1 ∙ sym (finished-opened u) in
        subst (λ (y : Tree). FieldNamed k i b s s' (one (written_body p (finished (opened t)))) (one y)) same (same-field k i b s s' (one (written_body p (finished (opened t)))) found.0)

    trees-after : {n : Site} {s s' : Ledger} {ts us : OpenTrees} → TreesStep R n s ts s' us → HasText (this_in s) → (is_slot n.above ≡ true → ⊥) → AreWideTrees ts → TreesHave (finished_trees ts) → TreesNamed s s' (finished_trees ts) (finished_trees us)
    trees-after (in_head {s = s} {s' = s'} {t = t} {u = u} {ts = ts} h) text slot wide has =
        let r = named-after h text has.0.sort (λ e. absurd (slot e)) wide.0 has.0.formed in
        let rest = finished_trees ts in
        record {
          grown = λ up x. grown-both (r.grown up x.0) (grown-self (claims_all is_owned up rest));
          around = λ x. around-more (use_in s) (use_in s') (finished t) (finished u) rest rest r.imports (λ up. r.grown up (λ e. absurd (let d = x.0 in cc (e, d)))) (λ up. grown-self (claims_all is_owned up rest)) (around-same (use_in s) (use_in s') rest);
          clear = λ c d e g m st x q. (r.clear c d e g m st x.0 q.0, clear-more-all c d m st rest q.1);
          some = refl;
          names = r.names;
        }
    trees-after (in_tail {s = s} {s' = s'} {t = t} {ts = ts} {us = us} h) text slot wide has =
        let r = trees-after h text slot wide.1 has.1 in
        record {
          grown = λ up x. grown-both (grown-self (claims is_owned up (finished t))) (r.grown up x.1);
          around = λ x. around-more (use_in s) (use_in s') (finished t) (finished t) (finished_trees ts) (finished_trees us) refl (λ up. grown-self (claims is_owned up (finished t))) (λ up. r.grown up (free-trees up (finished_trees ts) x.1)) (r.around x.1);
          clear = λ c d e g m st x q. (clear-more c d m st (finished t) q.0, r.clear c d e g m st x.1 q.1);
          some = refl;
          names = r.names;
        }
    trees-after (in_flanked h) text slot wide has = absurd wide
    trees-after (after_flanked h) text slot wide has = absurd wide
    trees-after (flanks {n = n} {s = s} {s' = s'} {bs = bs} {cs = cs} t u h) text slot wide has = absurd (form.no_flanks n s s' t u bs cs h)
    trees-after (acts_on_flanked t us h) text slot wide has = absurd wide
