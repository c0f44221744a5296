-- What stood in an arrow and has no `super` of what is around keeps the rules of places in a function that is no method.
use Rattle.std.proofs.Common.{◌≡◌, ◌+◌, ℕ, zero, suc, inl, inr, refl, sym, ap, subst, ◌∙◌, List, [], ◌∷◌, ◌++◌, arith}
use Rattle.std.specs.Prelude.{◌⊎◌, Bool, true, false, not, ◌&&◌, ◌||◌, bytes_eq, codes, if◌then◌else◌}
use Rattle.std.specs.List.{list_any}
use Rattle.es_tree.specs.Ancestors.{Ancestor, ancestor, has_new_target, has_super_calls, has_super_members, is_boundary, is_breakable, is_derived_constructor, is_field_value, is_function, is_in_function, is_in_loop, is_loop, is_method_value, is_module, is_switch, labels, leads_by, own_labels, place_of}
use Rattle.es_tree.specs.HasForm.{same_type}
use Rattle.es_tree.specs.Names.{first_text}
use Rattle.es_tree.specs.Scopes.{own_text}
use Rattle.es_tree.specs.StaticRules.{has_pattern, is_bad_for, is_bad_using, is_duplicate_label, is_label, is_loop_label, is_misplaced_meta, is_misplaced_super, is_missing_label, is_module_item}
use Rattle.es_tree.specs.Tree.{Tree, node, Label, Fields, done, ◌then◌, Field, missing, one, many, statements, Trees, empty, ◌before◌, kind_of}
use Rattle.es_tree.specs.declared.ast_type.AstType.{AstType}
use Rattle.es_tree.specs.declared.ast_type.AstType.TheVariants.{ArrowFunctionExpression, BreakStatement, ContinueStatement, ExportNamedDeclaration, ForInStatement, Identifier, LabeledStatement, MetaProperty, MethodDefinition, Program, StaticBlock, Super, VariableDeclaration}
use Rattle.es_tree.specs.declared.options.EnvOptions.{EnvOptions}
use Rattle.es_steps.specs.ThisPlaces.{keeps_this}
use Rattle.es_arrow_steps.specs.ThisFits.{reaches_in}
use Rattle.es_valid_steps.specs.PlaceRules.{Keeps, KeepsAll, KeepsBy, KeepsHere, KeepsIn}
use Rattle.es_valid_steps.proofs.Moves.{all-moved, keeps-moved, mark-moved, not-more, return-moved, target-moved, value-moved}
use Rattle.es_valid_steps.proofs.Offers.{Near, Offers, alike-self, in_derived, near-within}
use Rattle.es_valid_arrows.specs.ArrowPlaces.{arrow_in, is_wrapped_slot, parameter_in}
use Rattle.es_valid_arrows.proofs.Fits.{ArrowsFit, ArrowsFitAll, ArrowsFitBy, ArrowsFitIn}

-- Whatever these ancestors offer, those offer, but for `super`; and what they are to a function in them.
pub record Half (up vp : List Ancestor) : Type 0 where
  pub labels : labels vp ≡ labels up
  pub loop : is_in_loop up ≡ true → is_in_loop vp ≡ true
  pub breakable : is_breakable up ≡ true → is_breakable vp ≡ true
  pub function : is_in_function up ≡ true → is_in_function vp ≡ true
  pub targets : has_new_target up ≡ true → has_new_target vp ≡ true
  pub in_module : is_module vp ≡ is_module up
  pub method : is_method_value up ≡ true → is_method_value vp ≡ true
  pub constructor : is_derived_constructor up ≡ true → is_derived_constructor vp ≡ true
  pub class : in_derived up ≡ true → in_derived vp ≡ true

-- INWARDS

and-more : (b x y : Bool) → (x ≡ true → y ≡ true) → (b && x) ≡ true → (b && y) ≡ true
and-more true x y h e = h e
and-more false x y h e = absurd (cc e)

or-more : (b x y : Bool) → (x ≡ true → y ≡ true) → (b || x) ≡ true → (b || y) ≡ true
or-more true x y h e = refl
or-more false x y h e = h e

if-more : (v b x y : Bool) → (x ≡ true → y ≡ true) → (if v then b else x) ≡ true → (if v then b else y) ≡ true
if-more true b x y h e = e
if-more false b x y h e = h e

abbrev leads_to_constructor : Ancestor → Bool
leads_to_constructor a = leads_by MethodDefinition 1 a && bytes_eq (first_text a.label.texts) (codes "constructor")

and-false : (b c : Bool) → c ≡ false → (b && c) ≡ false
and-false true c e = e
and-false false c e = refl

constructor-is : (a : Ancestor) (up : List Ancestor) → is_derived_constructor (a ∷ up) ≡ (leads_to_constructor a && in_derived up)
constructor-is a [] = sym (and-false (leads_to_constructor a) false refl)
constructor-is a (c ∷ up) = refl

pub half-within : (up vp : List Ancestor) (a : Ancestor) → Half up vp → Half (a ∷ up) (a ∷ vp)
half-within up vp a h = record {
  labels = ap (λ ls. if is_boundary a.kind then [] else own_labels a ++ ls) h.labels;
  loop = and-more (not (is_boundary a.kind)) _ _ (or-more (is_loop a.kind) _ _ h.loop);
  breakable = and-more (not (is_boundary a.kind)) _ _ (or-more (is_loop a.kind || is_switch a.kind) _ _ h.breakable);
  function = if-more (is_boundary a.kind) (not (same_type a.kind StaticBlock)) (is_in_function up) (is_in_function vp) h.function;
  targets = or-more (is_function a.kind || same_type a.kind StaticBlock || is_field_value a) _ _ h.targets;
  in_module = ap (λ b. (same_type a.kind Program && bytes_eq (first_text a.label.texts) (codes "module")) || b) h.in_module;
  method = λ e. e;
  constructor = λ e. constructor-is a vp ∙ and-more (leads_to_constructor a) (in_derived up) (in_derived vp) h.class (sym (constructor-is a up) ∙ e);
  class = λ e. e;
}

-- in what has a `this` of its own `super` is offered as before
full-within : (up vp : List Ancestor) (a : Ancestor) → Half up vp → keeps_this a ≡ true → Offers true (a ∷ up) (a ∷ vp)
full-within up vp a h e =
    let w = half-within up vp a h in
    record {
      labels = w.labels;
      loop = λ j. w.loop;
      breakable = λ j. w.breakable;
      function = w.function;
      members = members (is_function a.kind) (same_type a.kind StaticBlock) (is_field_value a) e;
      calls = calls (is_function a.kind) (same_type a.kind StaticBlock) (is_field_value a) e;
      targets = w.targets;
      in_module = w.in_module;
      method = w.method;
      constructor = w.constructor;
      class = w.class;
    }
  where
    members : (f s v : Bool) → (f || s || v) ≡ true → (if f then is_method_value up else (s || v || has_super_members up)) ≡ true → (if f then is_method_value vp else (s || v || has_super_members vp)) ≡ true
    members true s v e g = h.method g
    members false true v e g = refl
    members false false true e g = refl
    members false false false e g = absurd (cc e)

    calls : (f s v : Bool) → (f || s || v) ≡ true → (if f then is_derived_constructor up else (not (s || v) && has_super_calls up)) ≡ true → (if f then is_derived_constructor vp else (not (s || v) && has_super_calls vp)) ≡ true
    calls true s v e g = h.constructor g
    calls false true v e g = absurd (cc g)
    calls false false true e g = absurd (cc g)
    calls false false false e g = absurd (cc e)

-- THE RULES OF ONE NODE that ask what is offered

module _ (up vp : List Ancestor) (h : Half up vp) where
  half-jump : (t : Tree) → is_missing_label up t ≡ false → is_missing_label vp t ≡ false
  half-jump (node BreakStatement l (one n then fs)) e = ap (λ ls. not (list_any (is_label (own_text n)) ls)) h.labels ∙ e
  half-jump (node BreakStatement l fs) e = not-more (is_breakable up) (is_breakable vp) h.breakable e
  half-jump (node ContinueStatement l (one n then fs)) e = ap (λ ls. not (list_any (is_loop_label (own_text n)) ls)) h.labels ∙ e
  half-jump (node ContinueStatement l fs) e = not-more (is_in_loop up) (is_in_loop vp) h.loop e
  half-jump (node _ l fs) e = refl

  meta-more : (b : Bool) (x y m n : Bool) → (x ≡ true → y ≡ true) → n ≡ m → (if b then not x else not m) ≡ false → (if b then not y else not n) ≡ false
  meta-more true x y m n f e g = not-more x y f g
  meta-more false x y m n f e g = ap (λ v. not v) e ∙ g

  half-meta : (t : Tree) → is_misplaced_meta up t ≡ false → is_misplaced_meta vp t ≡ false
  half-meta (node MetaProperty l fs) e = meta-more (bytes_eq (first_text l.texts) (codes "new")) (has_new_target up) (has_new_target vp) (is_module up) (is_module vp) h.targets h.in_module e
  half-meta (node _ l fs) e = refl

  -- no `super` stands here
  half-super : (o : EnvOptions) (parameter reaches : Bool) (t : Tree) → ArrowsFit o true parameter reaches t → is_misplaced_super vp t ≡ false
  half-super o parameter reaches (node Super l fs) f = absurd (let no : true ≡ false = f.0 in cc no)
  half-super o parameter reaches (node _ l fs) f = refl

-- BELOW ONE ANCESTOR, which stands elsewhere

no-rest : (x y z w : Bool) → ((x && false && y) || (z && false && w)) ≡ false
no-rest true y true w = refl
no-rest true y false w = refl
no-rest false y true w = refl
no-rest false y false w = refl

module _ (a : Ancestor) (up vp : List Ancestor) (h : Half (a ∷ up) (a ∷ vp)) (n : Near (a ∷ up) (a ∷ vp)) where
  same-label : (t : Tree) → is_duplicate_label (a ∷ vp) t ≡ is_duplicate_label (a ∷ up) t
  same-label (node Identifier l fs) = λ i. leads_by LabeledStatement 0 a && list_any (is_label (first_text l.texts)) (h.labels i)
  same-label (node _ l fs) = refl

  same-using : (t : Tree) → is_bad_using (a ∷ vp) t ≡ is_bad_using (a ∷ up) t
  same-using (node VariableDeclaration l (many ds then fs)) = λ i. bytes_eq (first_text l.texts) (codes "using") && (has_pattern ds || (leads_by Program 1 a && not (h.in_module i)) || leads_by ForInStatement 0 a || leads_by ExportNamedDeclaration 0 a)
  same-using (node VariableDeclaration l fs) = refl
  same-using (node _ l fs) = refl

  same-head : (t : Tree) → is_bad_for (a ∷ vp) t ≡ is_bad_for (a ∷ up) t
  same-head (node VariableDeclaration l (many ds then fs)) = refl
  same-head (node VariableDeclaration l fs) = refl
  same-head (node _ l fs) = refl

  out-here : (o : EnvOptions) (parameter reaches : Bool) (t : Tree) → ArrowsFit o true parameter reaches t → KeepsHere (a ∷ up) t → KeepsHere (a ∷ vp) t
  out-here o parameter reaches t f k = record {
    jump = half-jump (a ∷ up) (a ∷ vp) h t k.jump;
    label = same-label t ∙ k.label;
    returned = return-moved (a ∷ up) (a ∷ vp) t h.function k.returned;
    super_word = half-super (a ∷ up) (a ∷ vp) h o parameter reaches t f;
    target = target-moved (place_of (a ∷ up)) (place_of (a ∷ vp)) n.place t k.target;
    chain = k.chain;
    mark = mark-moved (place_of (a ∷ up)) (place_of (a ∷ vp)) n.place t k.mark;
    deleted = k.deleted;
    value = value-moved (place_of (a ∷ up)) (place_of (a ∷ vp)) n.place t k.value;
    using_word = same-using t ∙ k.using_word;
    head = same-head t ∙ k.head;
    item = (λ i. is_module_item (kind_of t) && not (leads_by Program 1 a && h.in_module i)) ∙ k.item;
    accessor = k.accessor;
    rest = n.rest t ∙ k.rest;
    declaration = k.declaration;
    meta = half-meta (a ∷ up) (a ∷ vp) h t k.meta;
  }

-- EACH NODE

either-state : (o : EnvOptions) (parameter : Bool) (k : AstType) (l : Label) (fs : Fields) (j : ℕ) (f : Field) → (keeps_this (ancestor k l fs j 0) ≡ true) ⊎ (arrow_in o true parameter (ancestor k l done j 0) f ≡ true)
either-state o parameter k l fs j f = at (keeps_this (ancestor k l fs j 0)) refl
  where
    still : (s own : Bool) → (s || (not false && (own || true))) ≡ true
    still true own = refl
    still false true = refl
    still false false = refl

    at : (b : Bool) → keeps_this (ancestor k l fs j 0) ≡ b → (b ≡ true) ⊎ (arrow_in o true parameter (ancestor k l done j 0) f ≡ true)
    at true e = inl refl
    at false e = inr ((λ i. is_wrapped_slot o parameter (ancestor k l done j 0) f || (not (e i) && (same_type k ArrowFunctionExpression || true))) ∙ still _ (same_type k ArrowFunctionExpression))

-- counted from the first field
first-state : (o : EnvOptions) (parameter : Bool) (k : AstType) (l : Label) (fs : Fields) (j m : ℕ) (f : Field) → m ≡ 0 + j → (keeps_this (ancestor k l fs m 0) ≡ true) ⊎ (arrow_in o true parameter (ancestor k l done j 0) f ≡ true)
first-state o parameter k l fs j m f e = subst (λ (i : ℕ). (keeps_this (ancestor k l fs i 0) ≡ true) ⊎ (arrow_in o true parameter (ancestor k l done j 0) f ≡ true)) (let d : j ≡ m = omega (arith, e) in d) (either-state o parameter k l fs j f)

module _ (o : EnvOptions) where
  mutual
    pub out-tree : (a : Ancestor) (up vp : List Ancestor) (t : Tree) (parameter reaches : Bool) → Half (a ∷ up) (a ∷ vp) → Near (a ∷ up) (a ∷ vp) → ArrowsFit o true parameter reaches t → Keeps (a ∷ up) t → Keeps (a ∷ vp) t
    out-tree a up vp (node k l fs) parameter reaches h n f g =
        (out-here a up vp h n o parameter reaches (node k l fs) f g.0, out-in a up vp k l fs 0 fs h n (λ i f. arrow_in o true parameter (ancestor k l done i 0) f) (λ i. parameter_in parameter (ancestor k l done i 0)) (λ i. reaches_in reaches (ancestor k l done i 0)) (first-state o parameter k l fs) f.1 g.1)

    out-in : (a : Ancestor) (up vp : List Ancestor) (k : AstType) (l : Label) (all : Fields) (i : ℕ) (fs : Fields) → Half (a ∷ up) (a ∷ vp) → Near (a ∷ up) (a ∷ vp) → (arrows : ℕ → Field → Bool) (parameters reaches : ℕ → Bool) → ((j m : ℕ) (f : Field) → m ≡ i + j → (keeps_this (ancestor k l all m 0) ≡ true) ⊎ (arrows j f ≡ true)) → ArrowsFitIn o arrows parameters reaches fs → KeepsIn (a ∷ up) k l all i fs → KeepsIn (a ∷ vp) k l all i fs
    out-in a up vp k l all i done h n arrows parameters reaches states f g = tt
    out-in a up vp k l all i (x then fs) h n arrows parameters reaches states f g = (
      out-by a up vp (ancestor k l all i 0) x h n (arrows zero x) (parameters zero) (reaches zero) (states 0 i x (omega arith)) f.0 g.0,
      out-in a up vp k l all (suc i) fs h n (λ j. arrows (suc j)) (λ j. parameters (suc j)) (λ j. reaches (suc j)) (λ j m y e. states (suc j) m y (omega (arith, e))) f.1 g.1,
    )

    out-by : (a : Ancestor) (up vp : List Ancestor) (b : Ancestor) (x : Field) → Half (a ∷ up) (a ∷ vp) → Near (a ∷ up) (a ∷ vp) → (arrow parameter reaches : Bool) → (keeps_this b ≡ true) ⊎ (arrow ≡ true) → ArrowsFitBy o arrow parameter reaches x → KeepsBy (b ∷ (a ∷ up)) x → KeepsBy (b ∷ (a ∷ vp)) x
    out-by a up vp b missing h n arrow parameter reaches state f g = tt
    out-by a up vp b (one t) h n arrow parameter reaches (inl e) f g = keeps-moved true (b ∷ (a ∷ up)) (b ∷ (a ∷ vp)) t (full-within (a ∷ up) (a ∷ vp) b h e) (near-within (a ∷ up) (a ∷ vp) b b (alike-self b) n) (λ d. absurd (cc d)) g
    out-by a up vp b (one t) h n arrow parameter reaches (inr e) f g = out-tree b (a ∷ up) (a ∷ vp) t parameter reaches (half-within (a ∷ up) (a ∷ vp) b h) (near-within (a ∷ up) (a ∷ vp) b b (alike-self b) n) (subst (λ (q : Bool). ArrowsFit o q parameter reaches t) e f) g
    out-by a up vp b (many ts) h n arrow parameter reaches (inl e) f g = all-moved true (b ∷ (a ∷ up)) (b ∷ (a ∷ vp)) ts (full-within (a ∷ up) (a ∷ vp) b h e) (near-within (a ∷ up) (a ∷ vp) b b (alike-self b) n) (λ d. absurd (cc d)) g
    out-by a up vp b (many ts) h n arrow parameter reaches (inr e) f g = out-all b (a ∷ up) (a ∷ vp) ts parameter reaches (half-within (a ∷ up) (a ∷ vp) b h) (near-within (a ∷ up) (a ∷ vp) b b (alike-self b) n) (subst (λ (q : Bool). ArrowsFitAll o q parameter reaches ts) e f) g
    out-by a up vp b (statements ts) h n arrow parameter reaches (inl e) f g = all-moved true (b ∷ (a ∷ up)) (b ∷ (a ∷ vp)) ts (full-within (a ∷ up) (a ∷ vp) b h e) (near-within (a ∷ up) (a ∷ vp) b b (alike-self b) n) (λ d. absurd (cc d)) g
    out-by a up vp b (statements ts) h n arrow parameter reaches (inr e) f g = out-all b (a ∷ up) (a ∷ vp) ts parameter reaches (half-within (a ∷ up) (a ∷ vp) b h) (near-within (a ∷ up) (a ∷ vp) b b (alike-self b) n) (subst (λ (q : Bool). ArrowsFitAll o q parameter reaches ts) e f) g

    pub out-all : (a : Ancestor) (up vp : List Ancestor) (ts : Trees) (parameter reaches : Bool) → Half (a ∷ up) (a ∷ vp) → Near (a ∷ up) (a ∷ vp) → ArrowsFitAll o true parameter reaches ts → KeepsAll (a ∷ up) ts → KeepsAll (a ∷ vp) ts
    out-all a up vp empty parameter reaches h n f g = tt
    out-all a up vp (t before ts) parameter reaches h n f g = (out-tree a up vp t parameter reaches h n f.0 g.0, out-all a up vp ts parameter reaches h n f.1 g.1)
