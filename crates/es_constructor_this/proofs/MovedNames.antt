-- Where such calls are followed in a tree, and statements are put behind others, the same names are declared, and the static rules of them are kept.
use Rattle.std.proofs.Common.{◌≡◌, ℕ, zero, suc, refl, sym, subst, ◌∙◌, List, [], ◌∷◌, ◌++◌}
use Rattle.std.specs.Prelude.{Bool, true, false}
use Rattle.es_tree.specs.Ancestors.{Ancestor}
use Rattle.es_tree.specs.DeclaredNames.{Name}
use Rattle.es_tree.specs.HasForm.{has_form}
use Rattle.es_tree.specs.StaticRules.{has_node}
use Rattle.es_tree.specs.Tree.{Tree, node, Label, Fields, done, ◌then◌, Field, many, statements, Trees}
use Rattle.es_tree.specs.Words.{Text}
use Rattle.es_tree.specs.declared.ast_type.AstType.{AstType}
use Rattle.es_tree.specs.declared.ast_type.AstType.TheVariants.{BlockStatement, CallExpression, SwitchCase}
use Rattle.es_tree.specs.declared.table.Sort.{Sort}
use Rattle.es_tree.specs.declared.table.Sort.TheVariants.{Expression as s-Expression}
use Rattle.es_resolution.specs.Declarations.{Bound}
use Rattle.es_steps.specs.Nodes.{identifier}
use Rattle.es_steps.specs.Open.{is_body, opened_fields}
use Rattle.es_steps.specs.Steps.{Ledger, Site, site_in, the_program}
use Rattle.es_steps.proofs.FormParts.{IsText}
use Rattle.es_steps.proofs.FormSorts.{form-narrower}
use Rattle.es_super_calls.specs.SuperCalls.{calls_it}
use Rattle.es_valid_steps.proofs.Changed.{is-name}
use Rattle.es_valid_steps.proofs.FieldForms.{FieldHas, FieldsHave, TreesHave}
use Rattle.es_valid_names.proofs.Claims.{Around, ClearAll, ClearBy, ClearIn, Stand, above, around_in, claims, claims_all, claims_by, claims_in, elsewhere, in_body as in_class, is_owned, stand_in}
use Rattle.es_valid_names.proofs.ClearNodes.{same-shape, same-shapes}
use Rattle.es_valid_names.proofs.ClearRules.{nothing-new, use_in}
use Rattle.es_valid_names.proofs.ClearSteps.{FieldKept, FieldsKept, TreeKept, in-node, in-used, moved-stands, no-first-body}
use Rattle.es_valid_names.proofs.Grown.{Grown, grown-both, grown-self, new_list, no_list, same_list}
use Rattle.es_valid_names.proofs.MoreAround.{Allows, allows-in, clear-more, clear-more-all, clear-more-by, clear-more-in}
use Rattle.es_valid_names.proofs.Mute.{mute-expression}
use Rattle.es_set_this.specs.ConstructorThis.{then_set}
use Rattle.es_constructor_this.specs.SetRows.{Puts}
use Rattle.es_constructor_this.specs.SetRows.Puts.{behind, further, nowhere}
use Rattle.es_constructor_this.proofs.Moved.{Moved, MovedAll, MovedBy, MovedIn}
use Rattle.es_constructor_this.proofs.Moved.Moved.{blocked, called, cased, inside}
use Rattle.es_constructor_this.proofs.Moved.MovedAll.{head, tail}
use Rattle.es_constructor_this.proofs.Moved.MovedBy.{to_child, to_children, to_list}
use Rattle.es_constructor_this.proofs.Moved.MovedIn.{first, later}
use Rattle.es_constructor_this.proofs.MovedForms.{moved-formed}
use Rattle.es_constructor_this.proofs.MovedPlaces.{parts-have}

-- THE STATEMENT that sets the name, among others

pub puts-claims : (up : List Ancestor) (b : Bound) {ts us : Trees} → Puts (identifier b) ts us → claims_all is_owned up us ≡ claims_all is_owned up ts
puts-claims up b nowhere = refl
puts-claims up b behind = refl
puts-claims up b (further {t = t} p) = λ j. claims is_owned up t ++ puts-claims up b p j

pub puts-clear : (c : Around) (st : Stand) (b : Bound) {ts us : Trees} → Puts (identifier b) ts us → ClearAll c st ts → ClearAll c st us
puts-clear c st b nowhere h = h
puts-clear c st b behind h = (h.0, ((tt, refl, ((tt, refl, ((tt, refl, tt), ((tt, refl, tt), tt))), tt)), h.1))
puts-clear c st b (further p) h = (h.0, puts-clear c st b p h.1)

puts-some : (x : Tree) {ts us : Trees} → Puts x ts us → has_node (statements us) ≡ has_node (statements ts)
puts-some x nowhere = refl
puts-some x behind = refl
puts-some x (further p) = refl

-- what stands in a call may stand in any
call-stand : (c : Around) (gs : List (List Name)) (st st' : Stand) (all : Fields) (i : ℕ) (fs : Fields) → ClearIn c gs st CallExpression all i fs → ClearIn c gs st' CallExpression all i fs
call-stand c gs st st' all i done h = tt
call-stand c gs st st' all i (f then fs) h = (h.0, call-stand c gs st st' all (suc i) fs h.1)

-- LISTS OF NAMES

pub grown-after : {used : Text → Bool} {gs hs ks : List (List Name)} → Grown used used gs hs → Grown used used hs ks → Grown used used gs ks
grown-after a (new_list g n w k) = new_list g n w (grown-after a k)
grown-after no_list no_list = no_list
grown-after (same_list g a) (same_list _ k) = same_list g (grown-after a k)
grown-after (new_list g n w a) (same_list _ k) = new_list g n w (grown-after a k)

none-grown : {used : Text → Bool} (gs hs : List (List Name)) → gs ≡ [] → hs ≡ [] → Grown used used gs hs
none-grown {used} gs hs e d = subst (λ (xs : List (List Name)). Grown used used xs hs) (sym e) (subst (λ (ys : List (List Name)). Grown used used [] ys) (sym d) (grown-self []))

same-grown : {used : Text → Bool} (gs hs : List (List Name)) → hs ≡ gs → Grown used used gs hs
same-grown {used} gs hs e = subst (λ (xs : List (List Name)). Grown used used gs xs) (sym e) (grown-self gs)

-- TREES

module _ (s : Ledger) where
  -- some trees in a field
  record AllKept (ts us : Trees) : Type 0 where
    grown : (up : List Ancestor) → Grown (use_in s) (use_in s) (claims_all is_owned up ts) (claims_all is_owned up us)
    clear : (c d : Around) → c.used ≡ use_in s → d.used ≡ use_in s → Allows c d → (st : Stand) → ClearAll c st ts → ClearAll d st us
    some : has_node (many us) ≡ has_node (many ts)

  -- one field, and the others
  first-kept : (k : AstType) (i : ℕ) (f g : Field) (rest : Fields) → FieldKept k i false s s f g → FieldsKept k i false s s (f then rest) (g then rest)
  first-kept k i f g rest r = record {
    grown = λ l all m up. grown-both (r.grown l all m up) (grown-self (claims_in is_owned up k l all m (suc i) rest));
    clear = λ a b e d m ga gb p st all all' stands q. (
      subst (λ (z : Stand). ClearBy (around_in b (in_class k i) gb) z g) (stands i)
          (r.clear (around_in a (in_class k i) ga) (around_in b (in_class k i) gb) (in-used a (in_class k i) ga ∙ e) (in-used b (in_class k i) gb ∙ d) (allows-in a b (in_class k i) ga gb m p) (stand_in st k all i) (λ v. absurd (cc v)) q.0),
      moved-stands b gb st k all all' (suc i) rest stands (clear-more-in a b m ga gb p st k all (suc i) rest q.1),
    );
    shapes = (r.shape, same-shapes rest);
    name = r.name;
    key = r.key;
    names = r.names;
  }

  later-kept : (k : AstType) (i : ℕ) (f : Field) (fs gs : Fields) → FieldsKept k (suc i) false s s fs gs → FieldsKept k i false s s (f then fs) (f then gs)
  later-kept k i f fs gs r = record {
    grown = λ l all m up. grown-both (grown-self (claims_by is_owned (above k l all i m ∷ up) f)) (r.grown l all m up);
    clear = λ a b e d m ga gb p st all all' stands q. (
      subst (λ (z : Stand). ClearBy (around_in b (in_class k i) gb) z f) (stands i) (clear-more-by (around_in a (in_class k i) ga) (around_in b (in_class k i) gb) (allows-in a b (in_class k i) ga gb m p) (stand_in st k all i) f q.0),
      r.clear a b e d m ga gb p st all all' stands q.1,
    );
    shapes = (same-shape f, r.shapes);
    name = λ e. refl;
    key = λ e d. d;
    names = r.names;
  }

  node-kept : (k : AstType) (l : Label) (fs gs : Fields) → FieldsKept k 0 false s s fs gs → TreeKept s s (node k l fs) (node k l gs)
  node-kept k l fs gs r = in-node s s k l fs gs (subst (λ (v : Bool). FieldsKept k 0 v s s fs gs) (sym (no-first-body k)) r)

  puts-kept : (k : AstType) (i : ℕ) (b : Bound) (ts us : Trees) → Puts (identifier b) ts us → FieldKept k i false s s (statements ts) (statements us)
  puts-kept k i b ts us p = record {
    grown = λ l all m up. same-grown (claims_all is_owned (above k l all i m ∷ up) ts) (claims_all is_owned (above k l all i m ∷ up) us) (puts-claims (above k l all i m ∷ up) b p);
    clear = λ c d e g m st v q. puts-clear d st b p (clear-more-all c d m st ts q);
    shape = record { single = refl; some = puts-some (identifier b) p };
    name = λ e. refl;
    key = λ e d. d;
    names = nothing-new s s refl;
  }

  -- a call that is followed: neither it nor the sequence declares anything
  call-kept : (a : Sort) (b : Bound) (l : Label) (fs : Fields) → IsText b → calls_it fs ≡ true → has_form a (node CallExpression l fs) ≡ true → TreeKept s s (node CallExpression l fs) (then_set (identifier b) l fs)
  call-kept a b l fs text calls f =
      let old = node CallExpression l fs in
      let new = then_set (identifier b) l fs in
      let here = form-narrower a CallExpression l fs refl f in
      let left = moved-formed old new (called b text calls) s-Expression (λ e. absurd (cc e)) here in
      record {
        grown = λ up. none-grown (claims is_owned up old) (claims is_owned up new) (mute-expression s-Expression up old refl refl here tt) (mute-expression s-Expression up new refl refl left tt);
        clear = λ c d e g m st z. let y = clear-more c d m st old z in (tt, refl, (((tt, refl, call-stand d _ st elsewhere fs 0 fs y.2), ((tt, refl, ((tt, refl, tt), ((tt, refl, tt), tt))), tt)), tt));
        name = refl;
        key = λ e. absurd (cc e);
        imports = refl;
        names = nothing-new s s refl;
      }

  mutual
    pub moved-kept : {c : Bool} (t u : Tree) → Moved IsText c t u → (a : Sort) → has_form a t ≡ true → TreeKept s s t u
    moved-kept _ _ (called {l = l} {fs = fs} b text calls) a f = call-kept a b l fs text calls f
    moved-kept _ _ (blocked {l = l} {ts = ts} {us = us} b text p) a f = node-kept BlockStatement l (statements ts then done) (statements us then done) (first-kept BlockStatement 0 (statements ts) (statements us) done (puts-kept BlockStatement 0 b ts us p))
    moved-kept _ _ (cased {l = l} {f = x} {ts = ts} {us = us} b text p) a f = node-kept SwitchCase l (x then statements ts then done) (x then statements us then done) (later-kept SwitchCase 0 x (statements ts then done) (statements us then done) (first-kept SwitchCase 1 (statements ts) (statements us) done (puts-kept SwitchCase 1 b ts us p)))
    moved-kept _ _ (inside {k = k} {l = l} {fs = fs} {gs = gs} m) a f = node-kept k l fs gs (fields-kept fs gs m k 0 (site_in the_program k l (opened_fields (is_body k) fs)) (is_body k) (parts-have a k l fs f))

    fields-kept : {c : ℕ → Bool} (fs gs : Fields) → MovedIn IsText c fs gs → (k : AstType) (i : ℕ) (d : ℕ → Site) (bodies : ℕ → Bool) → FieldsHave k d bodies fs → FieldsKept k i false s s fs gs
    fields-kept _ _ (first {f = f} {g = g} {fs = rest} m) k i d bodies has = first-kept k i f g rest (field-kept f g m k i (d zero) (bodies zero) has.0)
    fields-kept _ _ (later {f = f} {fs = fs} {gs = gs} m) k i d bodies has = later-kept k i f fs gs (fields-kept fs gs m k (suc i) (λ j. d (suc j)) (λ j. bodies (suc j)) has.1)

    field-kept : {c : Bool} (f g : Field) → MovedBy IsText c f g → (k : AstType) (i : ℕ) (n : Site) (v : Bool) → FieldHas k n v f → FieldKept k i false s s f g
    field-kept _ _ (to_child {t = t} {u = u} m) k i n v has =
        let r = moved-kept t u m has.sort has.formed in
        record { grown = λ l all j up. r.grown (above k l all i j ∷ up); clear = λ c d e g h st p q. r.clear c d e g h st q; shape = record { single = refl; some = refl }; name = λ e. is-name u ∙ r.name ∙ sym (is-name t); key = λ e d. r.key d; names = r.names }
    field-kept _ _ (to_children {ts = ts} {us = us} m) k i n v has =
        let r = all-kept ts us m has.trees in
        record { grown = λ l all j up. r.grown (above k l all i j ∷ up); clear = λ c d e g h st p q. r.clear c d e g h st q; shape = record { single = refl; some = r.some }; name = λ e. refl; key = λ e d. d; names = nothing-new s s refl }
    field-kept _ _ (to_list {ts = ts} {us = us} m) k i n v has =
        let r = all-kept ts us m has.trees in
        record { grown = λ l all j up. r.grown (above k l all i j ∷ up); clear = λ c d e g h st p q. r.clear c d e g h st q; shape = record { single = refl; some = listed ts us m }; name = λ e. refl; key = λ e d. d; names = nothing-new s s refl }

    listed : {c : Bool} (ts us : Trees) → MovedAll IsText c ts us → has_node (statements us) ≡ has_node (statements ts)
    listed _ _ (head m) = refl
    listed _ _ (tail m) = refl

    all-kept : {c : Bool} (ts us : Trees) → MovedAll IsText c ts us → TreesHave ts → AllKept ts us
    all-kept _ _ (head {t = t} {u = u} {ts = rest} m) has =
        let r = moved-kept t u m has.0.sort has.0.formed in
        record { grown = λ up. grown-both (r.grown up) (grown-self (claims_all is_owned up rest)); clear = λ c d e g h st q. (r.clear c d e g h st q.0, clear-more-all c d h st rest q.1); some = refl }
    all-kept _ _ (tail {t = t} {ts = ts} {us = us} m) has =
        let r = all-kept ts us m has.1 in
        record { grown = λ up. grown-both (grown-self (claims is_owned up t)) (r.grown up); clear = λ c d e g h st q. (clear-more c d h st t q.0, r.clear c d e g h st q.1); some = refl }

  -- one after the other
  allows-self : (c : Around) → Allows c c
  allows-self c = record { used = λ x e. e; privates = λ x e. e; top = λ x e. e }

  pub kept-self : (t : Tree) → TreeKept s s t t
  kept-self t = record { grown = λ up. grown-self (claims is_owned up t); clear = λ c d e g m st z. clear-more c d m st t z; name = refl; key = λ e. e; imports = refl; names = nothing-new s s refl }

  pub kept-after : (t u v : Tree) → TreeKept s s t u → TreeKept s s u v → TreeKept s s t v
  kept-after t u v a b = record {
    grown = λ up. grown-after (a.grown up) (b.grown up);
    clear = λ c d e g m st z. b.clear d d g g (allows-self d) st (a.clear c d e g m st z);
    name = b.name ∙ a.name;
    key = λ e. a.key (b.key e);
    imports = b.imports ∙ a.imports;
    names = nothing-new s s refl;
  }
