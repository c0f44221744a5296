-- A module whose `using` at the top is lowered: the static rules of places are kept. Nothing forbids in the block of the `try` what may stand at the top of a
-- module, but imports and exports, which stay there.
use Rattle.std.proofs.Common.{◌≡◌, ℕ, zero, suc, refl, sym, ap, subst, ◌∙◌, List, [], ◌∷◌}
use Rattle.std.specs.Prelude.{Bool, true, false, not, ◌&&◌, ◌||◌, codes, Some}
use Rattle.es_tree.specs.Ancestors.{Ancestor, ancestor, leads_by, place_of}
use Rattle.es_tree.specs.Attributes.{child_entries}
use Rattle.es_tree.specs.CoreStaticRules.{is_constant, is_lexical, is_missing_init, is_name, is_simple_target, place_in}
use Rattle.es_tree.specs.HasForm.{field_form, fields_form, has_form, same_type, trees_form}
use Rattle.es_tree.specs.Names.{first_text}
use Rattle.es_tree.specs.Parens.{without_parens}
use Rattle.es_tree.specs.StaticRules.{is_bad_for, is_bad_using, is_declaration, is_duplicate_label, is_misplaced_module_item}
use Rattle.es_tree.specs.Tree.{Tree, node, Label, Fields, done, ◌then◌, Field, missing, one, many, statements, Trees, empty, ◌before◌, kind_of, label_of}
use Rattle.es_tree.specs.declared.ast_type.AstType.{AstType}
use Rattle.es_tree.specs.declared.ast_type.AstType.TheVariants.{ArrayPattern, BlockStatement, ClassDeclaration, ClassExpression, ExportAllDeclaration, ExportDefaultDeclaration, ExportNamedDeclaration, Identifier, ImportDeclaration, ObjectPattern, Program, RestElement, TargetRest, TryStatement, VariableDeclaration, VariableDeclarator}
use Rattle.es_tree.specs.declared.place.Place.{Place}
use Rattle.es_tree.specs.declared.place.Place.TheVariants.{Declarator, Other, ProgramBody}
use Rattle.es_tree.specs.declared.table.Content.TheVariants.{Child as c-Child}
use Rattle.es_tree.specs.declared.table.Often.TheVariants.{Optional, Required}
use Rattle.es_tree.specs.declared.table.Sort.{Sort}
use Rattle.es_tree.specs.declared.table.Sort.TheVariants.{Binding as s-Binding, Declaration as s-Declaration, Expression as s-Expression, Statement as s-Statement, VariableDeclarator as s-VariableDeclarator}
use Rattle.es_tree.proofs.NodeForm.{node_form}
use Rattle.es_resolution.specs.Declarations.{Bound, symbol_of}
use Rattle.es_steps.specs.Nodes.{declaration_node, declarator_with, identifier, made}
use Rattle.es_steps.specs.UsingBlocks.{method_call, protected}
use Rattle.es_steps.specs.UsingBodies.{bound_as}
use Rattle.es_steps.proofs.FormLists.{first-formed}
use Rattle.es_steps.proofs.FormParts.{and-left, and-right}
use Rattle.es_valid_steps.specs.PlaceRules.{Keeps, KeepsAll, KeepsBy, KeepsHere, KeepsIn}
use Rattle.es_valid_steps.proofs.Free.{made-there}
use Rattle.es_valid_steps.proofs.Loose.{Loose, PlaceGoes, goes, loose}
use Rattle.es_valid_steps.proofs.Loose.PlaceGoes.{within}
use Rattle.es_valid_steps.proofs.Moves.{in-moved, jump-moved, keeps-moved, meta-moved, never-and, other-value, return-moved, super-moved}
use Rattle.es_valid_steps.proofs.Offers.{Alike, Near, Offers, PlaceOffers, alike-self, near-self, offers-self, offers-within}
use Rattle.es_valid_steps.proofs.Offers.PlaceOffers.{same_place}
use Rattle.es_valid_rests.proofs.RestPlacesFunctions.{all-again, all-joined, field-again}
use Rattle.es_valid_using.proofs.Frames.{frame-made, no-constructor, no-rest}
use Rattle.es_valid_using.proofs.UsingPlaces.{Sinks, below-rest, declarator-here, declarator-loose, in_block, in_try, inside_try, protected-keeps, used-keeps, variable-here}
use Rattle.es_top_imports.proofs.TopForms.{program_with}
use Rattle.es_export_splits.proofs.ExportNames.{export_with}
use Rattle.es_export_splits.proofs.ExportPlaces.{export-keeps}
use Rattle.es_using_modules.specs.ModuleTops.{Makes, by_bounds, by_var, default_export}
use Rattle.es_using_modules.proofs.TopForms.{exported-part}
use Rattle.es_using_modules.proofs.TopMoves.{AllBecome, Becomes, Declares, Defaults, Moves, default_with, is_plain, lowered}
use Rattle.es_using_modules.proofs.TopMoves.Becomes.{as_is, passed}
use Rattle.es_using_modules.proofs.TopMoves.AllBecome.{ended, more}
use Rattle.es_using_modules.proofs.TopMoves.Declares.{by_class, by_variables}
use Rattle.es_using_modules.proofs.TopMoves.Defaults.{a_value, bare_class, named_class}
use Rattle.es_using_modules.proofs.TopMoves.Moves.{declares, default_export_of, exports, no_more, plain, stays}

-- THE PLACES of what stands in a statement at the top and in a block
plain-place : (k : AstType) → is_plain k ≡ true → (l : Label) (i : ℕ) → place_in Other k l i ≡ place_in ProgramBody k l i
plain-place k e l (suc zero) = refl
plain-place k e l (suc (suc i)) = refl
plain-place VariableDeclaration e l zero = absurd (let no : false ≡ true = e in cc no)
plain-place _ e l zero = refl

module _ (l : Label) (all : Fields) (context error : Bound) (whole : Trees) where
  -- at the top, and in the block
  abbrev up : List Ancestor
  up = ancestor Program l all 1 0 ∷ []

  abbrev inner : List Ancestor
  inner = inside_try context error whole up

  abbrev exported : Label → Fields → List Ancestor
  exported k fs = ancestor ExportNamedDeclaration k fs 0 0 ∷ up

  abbrev by_default : Label → Fields → List Ancestor
  by_default k fs = ancestor ExportDefaultDeclaration k fs 0 0 ∷ up

  inner-loose : Loose inner
  inner-loose = loose (made [] []) (in_block context whole) 0 0 (ancestor TryStatement (made [] []) (in_try context error whole) 0 0 ∷ up) BlockStatement refl

  from-top : Offers true up inner
  from-top = record { labels = refl; loop = λ j h. h; breakable = λ j h. h; function = λ h. h; members = λ h. h; calls = λ h. h; targets = λ h. h; in_module = refl; method = λ h. h; constructor = λ h. h; class = λ h. h }

  from-export : (k : Label) (fs : Fields) → Offers true (exported k fs) inner
  from-export k fs = record { labels = refl; loop = λ j h. h; breakable = λ j h. h; function = λ h. h; members = λ h. h; calls = λ h. h; targets = λ h. h; in_module = refl; method = λ h. h; constructor = λ h. h; class = λ h. h }

  -- STATEMENTS that move as they are

  record NoneAsked (t : Tree) : Type 0 where
    label : is_duplicate_label inner t ≡ false
    using_word : is_bad_using inner t ≡ false
    head : is_bad_for inner t ≡ false
    item : is_misplaced_module_item inner t ≡ false

  none-asked : (t : Tree) → is_plain (kind_of t) ≡ true → NoneAsked t
  none-asked (node VariableDeclaration k fs) e = absurd (let no : false ≡ true = e in cc no)
  none-asked (node ImportDeclaration k fs) e = absurd (let no : false ≡ true = e in cc no)
  none-asked (node ExportAllDeclaration k fs) e = absurd (let no : false ≡ true = e in cc no)
  none-asked (node ExportNamedDeclaration k fs) e = absurd (let no : false ≡ true = e in cc no)
  none-asked (node ExportDefaultDeclaration k fs) e = absurd (let no : false ≡ true = e in cc no)
  none-asked (node _ k fs) e = record { label = refl; using_word = refl; head = refl; item = refl }

  plain-here : (t : Tree) → is_plain (kind_of t) ≡ true → KeepsHere up t → KeepsHere inner t
  plain-here t e h = record {
    jump = jump-moved up inner true from-top t (λ d. absurd (let no : true ≡ false = d in cc no)) h.jump;
    label = (none-asked t e).label;
    returned = return-moved up inner t (λ d. d) h.returned;
    super_word = super-moved up inner true from-top (λ d. d) (λ d. d) t h.super_word;
    target = refl;
    chain = h.chain;
    mark = h.mark;
    deleted = h.deleted;
    value = other-value t;
    using_word = (none-asked t e).using_word;
    head = (none-asked t e).head;
    item = (none-asked t e).item;
    accessor = h.accessor;
    rest = refl;
    declaration = never-and (is_declaration (kind_of t) (label_of t)) false refl;
    meta = meta-moved up inner true from-top t h.meta;
  }

  plain-keeps : (t : Tree) → is_plain (kind_of t) ≡ true → Keeps up t → Keeps inner t
  plain-keeps (node k j fs) e h =
      let offers : (i : ℕ) → Offers true (ancestor k j fs i 0 ∷ up) (ancestor k j fs i 0 ∷ inner) = λ i. offers-within true up inner (ancestor k j fs i 0) (ancestor k j fs i 0) (alike-self _) from-top (λ d. absurd (let no : true ≡ false = d in cc no)) in
      let near : (i : ℕ) → Near (ancestor k j fs i 0 ∷ up) (ancestor k j fs i 0 ∷ inner) = λ i. record { place = subst (λ (p : Place). PlaceOffers (place_in ProgramBody k j i) p) (sym (plain-place k e j i)) (same_place (place_in ProgramBody k j i)); head = alike-self _; rest = λ t. refl } in
      (plain-here (node k j fs) e h.0, in-moved true up inner k j fs fs 0 fs offers near (λ d. absurd (let no : true ≡ false = d in cc no)) h.1)

  -- A VARIABLE that is made, with its value

  abbrev made_label : Label
  made_label = made (Some (codes "var") ∷ []) []

  abbrev made_list : Tree → Tree → Trees
  made_list x e = node VariableDeclarator (made [] []) (one x then one e then done) before empty

  -- where its value stands
  abbrev valued : Tree → Tree → List Ancestor
  valued x e = ancestor VariableDeclarator (made [] []) (one x then one e then done) 1 0 ∷ (ancestor VariableDeclaration made_label (many (made_list x e) then done) 0 0 ∷ inner)

  variable-keeps : (b : Bound) (e : Tree) → Keeps (valued (identifier b) e) e → Keeps inner (declaration_node (codes "var") (declarator_with (identifier b) e ∷ []))
  variable-keeps b e h =
      let x = identifier b in
      let list : Fields = many (made_list x e) then done in
      let there = ancestor VariableDeclaration made_label list 0 0 in
      let parts : Fields = one x then one e then done in
      (variable-here inner inner-loose refl made_label (made_list x e) refl, (((declarator-here inner inner-loose refl made_label list (made [] []) x e, ((made-there (ancestor VariableDeclarator (made [] []) parts 0 0 ∷ (there ∷ inner)) Identifier _ done (declarator-loose (made [] []) parts 0 there inner) refl refl refl refl, tt), (h, tt))), tt), tt))

  -- an expression from another place of no kind that a rule asks for
  module _ (x e : Tree) where
    valued-loose : Loose (valued x e)
    valued-loose = declarator-loose (made [] []) (one x then one e then done) 1 (ancestor VariableDeclaration made_label (many (made_list x e) then done) 0 0) inner

    default-loose : (k : Label) (fs : Fields) → Loose (by_default k fs)
    default-loose k fs = record { label = refl; top = refl; for_in = refl; for_of = refl; exported = refl; lone = refl; rest = λ t. refl; inner_rest = λ a t. below-rest (leads_by RestElement 0 a) (not (same_type (kind_of t) Identifier)) (leads_by TargetRest 0 a) (not (is_simple_target (kind_of (without_parens t)))) }

    default-offers : (k : Label) (fs : Fields) → Offers true (by_default k fs) (valued x e)
    default-offers k fs = record { labels = refl; loop = λ j h. h; breakable = λ j h. h; function = λ h. h; members = λ h. h; calls = λ h. h; targets = λ h. h; in_module = refl; method = λ h. h; constructor = λ h. h; class = λ h. h }

    value-keeps : (k : Label) (fs : Fields) (t : Tree) → Keeps (by_default k fs) t → Keeps (valued x e) t
    value-keeps k fs t h = goes (by_default k fs) (valued x e) (default-loose k fs) valued-loose true (default-offers k fs) t (super-moved (by_default k fs) (valued x e) true (default-offers k fs) (λ d. d) (λ d. d) t) (within (same_place Other)) (λ d. absurd (let no : true ≡ false = d in cc no)) h

  -- CLASSES: what one extends and its members stand in an expression then, whose name is the first field

  module _ (x : Tree) (k : Label) (g h : Field) (fs : Fields) (from : List Ancestor) where
    abbrev class_expression : Tree
    class_expression = node ClassExpression k (h then fs)

    abbrev was : ℕ → List Ancestor
    was i = ancestor ClassDeclaration k (g then fs) i 0 ∷ from

    abbrev is_now : ℕ → List Ancestor
    is_now i = ancestor ClassExpression k (h then fs) i 0 ∷ valued x class_expression

    was-loose : (i : ℕ) → Loose (was i)
    was-loose i = record { label = refl; top = refl; for_in = refl; for_of = refl; exported = refl; lone = refl; rest = no-rest (ancestor ClassDeclaration k (g then fs) i 0) refl refl from; inner_rest = λ a t. below-rest (leads_by RestElement 0 a) (not (same_type (kind_of t) Identifier)) (leads_by TargetRest 0 a) (not (is_simple_target (kind_of (without_parens t)))) }

    now-loose : (i : ℕ) → Loose (is_now i)
    now-loose i = record { label = refl; top = refl; for_in = refl; for_of = refl; exported = refl; lone = refl; rest = no-rest (ancestor ClassExpression k (h then fs) i 0) refl refl (valued x class_expression); inner_rest = λ a t. below-rest (leads_by RestElement 0 a) (not (same_type (kind_of t) Identifier)) (leads_by TargetRest 0 a) (not (is_simple_target (kind_of (without_parens t)))) }

    -- from each of the places of a declaration the same is offered
    module _ (o : Offers true from inner) where
      class-offers : (i : ℕ) → Offers true (was i) (is_now i)
      class-offers i = record { labels = o.labels; loop = o.loop; breakable = o.breakable; function = o.function; members = o.members; calls = o.calls; targets = o.targets; in_module = o.in_module; method = λ d. d; constructor = λ d. absurd (let no : false ≡ true = sym (no-constructor (ancestor ClassDeclaration k (g then fs) i 0) refl from) ∙ d in cc no); class = λ d. d }

      class-place : (i : ℕ) (t : Tree) → PlaceGoes t (place_of (was (suc i))) (place_of (is_now (suc i)))
      class-place zero t = within (same_place Other)
      class-place (suc i) t = within (same_place Other)

      class-part : (i : ℕ) (t : Tree) → Keeps (was (suc i)) t → Keeps (is_now (suc i)) t
      class-part i t d = goes (was (suc i)) (is_now (suc i)) (was-loose (suc i)) (now-loose (suc i)) true (class-offers (suc i)) t (super-moved (was (suc i)) (is_now (suc i)) true (class-offers (suc i)) (λ e. e) (λ e. e) t) (class-place i t) (λ e. absurd (let no : true ≡ false = e in cc no)) d

      class-parts : (i : ℕ) (ts : Trees) → KeepsAll (was (suc i)) ts → KeepsAll (is_now (suc i)) ts
      class-parts i empty d = tt
      class-parts i (t before ts) d = (class-part i t d.0, class-parts i ts d.1)

      class-field : (i : ℕ) (f : Field) → KeepsBy (was (suc i)) f → KeepsBy (is_now (suc i)) f
      class-field i missing d = tt
      class-field i (one t) d = class-part i t d
      class-field i (many ts) d = class-parts i ts d
      class-field i (statements ts) d = class-parts i ts d

      class-fields : (i : ℕ) (gs : Fields) → KeepsIn from ClassDeclaration k (g then fs) (suc i) gs → KeepsIn (valued x class_expression) ClassExpression k (h then fs) (suc i) gs
      class-fields i done d = tt
      class-fields i (f then gs) d = (class-field i f d.0, class-fields (suc i) gs d.1)

      class-keeps : KeepsBy (is_now 0) h → Keeps from (node ClassDeclaration k (g then fs)) → Keeps (valued x class_expression) class_expression
      class-keeps d e = (record { jump = refl; label = refl; returned = refl; super_word = refl; target = refl; chain = refl; mark = refl; deleted = refl; value = refl; using_word = refl; head = refl; item = refl; accessor = refl; rest = refl; declaration = refl; meta = refl }, (d, class-fields 0 fs e.1.1))

  -- VARIABLES, from one of the two places where they are declared

  module _ (from : List Ancestor) (o : Offers true from inner) (k : Label) (ds es : Trees) where
    abbrev old_declaration : List Ancestor
    old_declaration = ancestor VariableDeclaration k (many ds then done) 0 0 ∷ from

    abbrev new_declaration : List Ancestor
    new_declaration = ancestor VariableDeclaration (by_var k) (many es then done) 0 0 ∷ inner

    module _ (top : Bool) (placed : place_of old_declaration ≡ Declarator top (is_lexical (first_text k.texts)) (is_constant (first_text k.texts))) (n : Label) where
      abbrev old_declarator : Fields → ℕ → List Ancestor
      old_declarator fs i = ancestor VariableDeclarator n fs i 0 ∷ old_declaration

      abbrev new_declarator : Fields → ℕ → List Ancestor
      new_declarator fs i = ancestor VariableDeclarator n fs i 0 ∷ new_declaration

      declarator-offers : (fs gs : Fields) (i : ℕ) → Offers true (old_declarator fs i) (new_declarator gs i)
      declarator-offers fs gs i = record { labels = o.labels; loop = o.loop; breakable = o.breakable; function = o.function; members = o.members; calls = o.calls; targets = o.targets; in_module = o.in_module; method = λ h. h; constructor = λ h. h; class = λ h. h }

      -- its value
      value-moved : (fs : Fields) (e : Tree) → Keeps (old_declarator fs 1) e → Keeps (new_declarator fs 1) e
      value-moved fs e h = keeps-moved true (old_declarator fs 1) (new_declarator fs 1) e (declarator-offers fs fs 1) (record { place = same_place Other; head = alike-self _; rest = λ t. refl }) (λ d. absurd (let no : true ≡ false = d in cc no)) h

      -- what it declares
      module _ (fs gs : Fields) (j : AstType) (q : Label) (hs : Fields) (same : place_in (place_of (new_declarator gs 0)) j q 0 ≡ place_in (place_of (old_declarator fs 0)) j q 0) where
        same-place : (i : ℕ) → place_in (place_of (new_declarator gs 0)) j q i ≡ place_in (place_of (old_declarator fs 0)) j q i
        same-place zero = same
        same-place (suc zero) = refl
        same-place (suc (suc i)) = refl

        inner-near : (i : ℕ) → Near (ancestor j q hs i 0 ∷ old_declarator fs 0) (ancestor j q hs i 0 ∷ new_declarator gs 0)
        inner-near i = record { place = subst (λ (r : Place). PlaceOffers (place_of (ancestor j q hs i 0 ∷ old_declarator fs 0)) r) (sym (same-place i)) (same_place _); head = alike-self _; rest = λ t. refl }

        inner-keeps : KeepsIn (old_declarator fs 0) j q hs 0 hs → KeepsIn (new_declarator gs 0) j q hs 0 hs
        inner-keeps h = in-moved true (old_declarator fs 0) (new_declarator gs 0) j q hs hs 0 hs (λ i. offers-within true (old_declarator fs 0) (new_declarator gs 0) (ancestor j q hs i 0) (ancestor j q hs i 0) (alike-self _) (declarator-offers fs gs 0) (λ e. absurd (let no : true ≡ false = e in cc no))) inner-near (λ d. absurd (let no : true ≡ false = d in cc no)) h

      pattern-keeps : (fs gs : Fields) (t : Tree) → has_form s-Binding t ≡ true → Keeps (old_declarator fs 0) t → Keeps (new_declarator gs 0) t
      pattern-keeps fs gs (node Identifier q hs) f h = (record { jump = refl; label = refl; returned = refl; super_word = refl; target = refl; chain = refl; mark = refl; deleted = refl; value = refl; using_word = refl; head = refl; item = refl; accessor = refl; rest = refl; declaration = refl; meta = refl }, inner-keeps fs gs Identifier q hs refl h.1)
      pattern-keeps fs gs (node ObjectPattern q hs) f h = (record { jump = refl; label = refl; returned = refl; super_word = refl; target = refl; chain = refl; mark = refl; deleted = refl; value = refl; using_word = refl; head = refl; item = refl; accessor = refl; rest = refl; declaration = refl; meta = refl }, inner-keeps fs gs ObjectPattern q hs refl h.1)
      pattern-keeps fs gs (node ArrayPattern q hs) f h = (record { jump = refl; label = refl; returned = refl; super_word = refl; target = refl; chain = refl; mark = refl; deleted = refl; value = refl; using_word = refl; head = refl; item = refl; accessor = refl; rest = refl; declaration = refl; meta = refl }, inner-keeps fs gs ArrayPattern q hs refl h.1)
      pattern-keeps fs gs (node j q hs) f h = absurd (let no : false ≡ true = (node_form s-Binding j q hs f).sort in cc no)

      -- a declarator without a value, which no constant is
      bare-here : (p : Tree) → KeepsHere old_declaration (node VariableDeclarator n (one p then missing then done)) → KeepsHere new_declaration (node VariableDeclarator n (one p then missing then done))
      bare-here p h = record { jump = refl; label = refl; returned = refl; super_word = refl; target = refl; chain = refl; mark = refl; deleted = refl; value = at (is_constant (first_text k.texts)) (is_name (Some p)) (ap (λ r. is_missing_init r (node VariableDeclarator n (one p then missing then done))) (sym placed) ∙ h.value); using_word = refl; head = refl; item = refl; accessor = refl; rest = refl; declaration = refl; meta = refl }
        where
          at : (c b : Bool) → ((c || not b) && true) ≡ false → (not b && true) ≡ false
          at true b e = absurd (let no : true ≡ false = e in cc no)
          at false b e = e

      passed-value : (p e : Tree) → Keeps (old_declarator (one p then one e then done) 1) e → Keeps (new_declarator (one p then one (method_call context (codes "u") (e ∷ [])) then done) 1) (method_call context (codes "u") (e ∷ []))
      passed-value p e h = used-keeps inner inner stay (by_var k) (by_var k) (many es then done) (many es then done) n (one p then one e then done) (one p then one (method_call context (codes "u") (e ∷ [])) then done) context e (value-moved (one p then one e then done) e h)
        where
          stay : Sinks inner inner
          stay = record { loose_from = inner-loose; loose_to = inner-loose; offers = offers-self inner; place_from = refl; place_to = refl; callee = refl; object = refl }

    module _ (top : Bool) (placed : place_of old_declaration ≡ Declarator top (is_lexical (first_text k.texts)) (is_constant (first_text k.texts))) where
      with-value : (n : Label) (p v e : Tree) → has_form s-VariableDeclarator (node VariableDeclarator n (one p then one v then done)) ≡ true → Keeps old_declaration (node VariableDeclarator n (one p then one v then done)) → Keeps (new_declarator top placed n (one p then one e then done) 1) e → Keeps new_declaration (node VariableDeclarator n (one p then one e then done))
      with-value n p v e f h g = (declarator-here inner inner-loose refl (by_var k) (many es then done) n p e, (pattern-keeps top placed n (one p then one v then done) (one p then one e then done) p (and-left (has_form s-Binding p) _ (node_form s-VariableDeclarator VariableDeclarator n (one p then one v then done) f).children) h.1.0, (g, tt)))

      as-before : (n : Label) (fs : Fields) → fields_form VariableDeclarator n (child_entries VariableDeclarator) fs ≡ true → has_form s-VariableDeclarator (node VariableDeclarator n fs) ≡ true → Keeps old_declaration (node VariableDeclarator n fs) → Keeps new_declaration (node VariableDeclarator n fs)
      as-before n (one p then missing then done) c f h = (bare-here top placed n p h.0, (pattern-keeps top placed n (one p then missing then done) (one p then missing then done) p (and-left (has_form s-Binding p) true c) h.1.0, (tt, tt)))
      as-before n (one p then one v then done) c f h = with-value n p v v f h (value-moved top placed n (one p then one v then done) v h.1.1.0)
      as-before n done c f h = absurd (let no : false ≡ true = c in cc no)
      as-before n (g then done) c f h = absurd (let no : false ≡ true = and-right (field_form VariableDeclarator n (c-Child s-Binding Required) g) false c in cc no)
      as-before n (g then i then j then hs) c f h = absurd (let no : false ≡ true = and-right (field_form VariableDeclarator n (c-Child s-Expression Optional) i) false (and-right (field_form VariableDeclarator n (c-Child s-Binding Required) g) _ c) in cc no)
      as-before n (g then many ts then done) c f h = absurd (let no : false ≡ true = and-right (field_form VariableDeclarator n (c-Child s-Binding Required) g) false c in cc no)
      as-before n (g then statements ts then done) c f h = absurd (let no : false ≡ true = and-right (field_form VariableDeclarator n (c-Child s-Binding Required) g) false c in cc no)
      as-before n (g then i then done) c f h = absurd (let no : false ≡ true = c in cc no)

      declarator-keeps : (d e : Tree) → Becomes context d e → has_form s-VariableDeclarator d ≡ true → Keeps old_declaration d → Keeps new_declaration e
      declarator-keeps d e (passed n p v) f h = with-value n p v (method_call context (codes "u") (v ∷ [])) f h (passed-value top placed n p v h.1.1.0)
      declarator-keeps d e (as_is (node VariableDeclarator n fs)) f h = as-before n fs (node_form s-VariableDeclarator VariableDeclarator n fs f).children f h
      declarator-keeps d e (as_is (node j n fs)) f h = absurd (let no : false ≡ true = (node_form s-VariableDeclarator j n fs f).sort in cc no)

      declarators-keep : (xs ys : Trees) → AllBecome context xs ys → trees_form s-VariableDeclarator s-VariableDeclarator xs ≡ true → KeepsAll old_declaration xs → KeepsAll new_declaration ys
      declarators-keep xs ys ended f h = tt
      declarators-keep xs ys (more {d = d} {e = e} {ds = xs'} {es = ys'} b r) f h = let parts = first-formed s-VariableDeclarator d xs' f in (declarator-keeps d e b parts.0 h.0, declarators-keep xs' ys' r parts.1 h.1)

      variables-keep : (s : Sort) → AllBecome context ds es → has_form s (node VariableDeclaration k (many ds then done)) ≡ true → Keeps from (node VariableDeclaration k (many ds then done)) → Keeps inner (node VariableDeclaration (by_var k) (many es then done))
      variables-keep s r f h = (variable-here inner inner-loose refl (by_var k) es refl, (declarators-keep ds es r (declarators ds (node_form s VariableDeclaration k (many ds then done) f).children) h.1.0, tt))
        where
          declarators : (xs : Trees) → fields_form VariableDeclaration k (child_entries VariableDeclaration) (many xs then done) ≡ true → trees_form s-VariableDeclarator s-VariableDeclarator xs ≡ true
          declarators empty c = refl
          declarators (x before xs) c = and-left (trees_form s-VariableDeclarator s-VariableDeclarator (x before xs)) true c

  -- DECLARATIONS

  record Declaring (from : List Ancestor) : Type 0 where
    offers : Offers true from inner
    top : Bool
    placed : (k : Label) (fs : Fields) → place_of (ancestor VariableDeclaration k fs 0 0 ∷ from) ≡ Declarator top (is_lexical (first_text k.texts)) (is_constant (first_text k.texts))

  at-top : Declaring up
  at-top = record { offers = from-top; top = true; placed = λ k fs. refl }

  in-export : (k : Label) (fs : Fields) → Declaring (exported k fs)
  in-export k fs = record { offers = from-export k fs; top = false; placed = λ j gs. refl }

  from-default : (k : Label) (fs : Fields) → Offers true (by_default k fs) inner
  from-default k fs = record { labels = refl; loop = λ j h. h; breakable = λ j h. h; function = λ h. h; members = λ h. h; calls = λ h. h; targets = λ h. h; in_module = refl; method = λ h. h; constructor = λ h. h; class = λ h. h }

  named-class : (from : List Ancestor) → Offers true from inner → (b : Bound) (n k : Label) (c : Tree) (fs : Fields) → Keeps from (node ClassDeclaration k (one c then fs)) → Keeps inner (declaration_node (codes "var") (declarator_with (identifier b) (node ClassExpression k (one (node Identifier n done) then fs)) ∷ []))
  named-class from o b n k c fs h =
      let h' = one (node Identifier n done) in
      variable-keeps b (node ClassExpression k (h' then fs)) (class-keeps (identifier b) k (one c) h' fs from o (made-there (is_now (identifier b) k (one c) h' fs from 0) Identifier _ done (now-loose (identifier b) k (one c) h' fs from 0) refl refl refl refl, tt) h)

  module _ (default : Bound) where
    abbrev m : Makes
    m = by_bounds default context error

    declares-keep : (from : List Ancestor) → Declaring from → (s : Sort) (d u : Tree) (xs : List Tree) → Declares default context error d xs u → has_form s d ≡ true → Keeps from d → Keeps inner u
    declares-keep from g s d u xs (by_variables k ds es r) f h = variables-keep from g.offers k ds es g.top (g.placed k (many ds then done)) s r f h
    declares-keep from g s d u xs (by_class k c fs) f h = named-class from g.offers (bound_as (label_of c)) (record (label_of c) { marks = symbol_of k ∷ [] }) k c fs h

    -- DEFAULT EXPORTS

    defaults-keep : (k : Label) (gs : Fields) (t d x u : Tree) → Defaults default context error t d x u → Keeps (by_default k gs) d → Keeps inner u
    defaults-keep k gs t d x u (named_class l' c fs) h = named-class (by_default k gs) (from-default k gs) (bound_as (label_of c)) (record (label_of c) { marks = symbol_of l' ∷ [] }) l' c fs h
    defaults-keep k gs t d x u (bare_class l' fs) h = variable-keeps default (node ClassExpression l' (missing then fs)) (class-keeps (identifier default) l' missing missing fs (by_default k gs) (from-default k gs) tt h)
    defaults-keep k gs t d x u (a_value e f) h = variable-keeps default e (value-keeps (identifier default) e k gs e h)

    left-keeps : (k : Label) (fs : Fields) (t : Tree) (b : Bound) → KeepsHere up (node ExportDefaultDeclaration k fs) → Keeps up (default_export m t (identifier b))
    left-keeps k fs t b h = (
      record { jump = refl; label = refl; returned = refl; super_word = refl; target = refl; chain = refl; mark = refl; deleted = refl; value = refl; using_word = refl; head = refl; item = h.item; accessor = refl; rest = refl; declaration = refl; meta = refl },
      (
        tt,
        (
          (
            (
              record { jump = refl; label = refl; returned = refl; super_word = refl; target = refl; chain = refl; mark = refl; deleted = refl; value = refl; using_word = refl; head = refl; item = refl; accessor = refl; rest = refl; declaration = refl; meta = refl },
              (
                (record { jump = refl; label = refl; returned = refl; super_word = refl; target = refl; chain = refl; mark = refl; deleted = refl; value = refl; using_word = refl; head = refl; item = refl; accessor = refl; rest = refl; declaration = refl; meta = refl }, tt),
                ((record { jump = refl; label = refl; returned = refl; super_word = refl; target = refl; chain = refl; mark = refl; deleted = refl; value = refl; using_word = refl; head = refl; item = refl; accessor = refl; rest = refl; declaration = refl; meta = refl }, tt), tt),
              ),
            ),
            tt,
          ),
          (tt, (tt, tt)),
        ),
      ),
    )

    default-keeps : (k : Label) (t d x u : Tree) → Defaults default context error t d x u → KeepsHere up (default_with k d) → Keeps up (default_export m t x)
    default-keeps k t d x u (named_class l' c fs) h = left-keeps k (one d then done) t (bound_as (label_of c)) h
    default-keeps k t d x u (bare_class l' fs) h = left-keeps k (one d then done) t default h
    default-keeps k t d x u (a_value e f) h = left-keeps k (one d then done) t default h

    -- THE LISTS

    record ListsKeep (os us : Trees) : Type 0 where
      outer : KeepsAll up os
      inside : KeepsAll inner us

    lists-keep : (ts os us : Trees) → Moves default context error ts os us → trees_form s-Statement s-Statement ts ≡ true → KeepsAll up ts → ListsKeep os us
    lists-keep ts os us no_more f h = record { outer = tt; inside = tt }
    lists-keep ts os us (stays {t = t} {ts = ts'} {os = os'} {us = us'} e r) f h = let rest = lists-keep ts' os' us' r (first-formed s-Statement t ts' f).1 h.1 in record { outer = (h.0, rest.outer); inside = rest.inside }
    lists-keep ts os us (plain {t = t} {ts = ts'} {os = os'} {us = us'} e r) f h = let rest = lists-keep ts' os' us' r (first-formed s-Statement t ts' f).1 h.1 in record { outer = rest.outer; inside = (plain-keeps t e h.0, rest.inside) }
    lists-keep ts os us (declares {d = d} {u = u} {xs = xs} {ts = ts'} {os = os'} {us = us'} g r) f h =
        let parts = first-formed s-Statement d ts' f in
        let rest = lists-keep ts' os' us' r parts.1 h.1 in
        record { outer = rest.outer; inside = (declares-keep up at-top s-Statement d u xs g parts.0 h.0, rest.inside) }
    lists-keep ts os us (exports {l = k} {d = d} {u = u} {xs = xs} {ts = ts'} {os = os'} {us = us'} g r) f h =
        let parts = first-formed s-Statement (export_with k d) ts' f in
        let rest = lists-keep ts' os' us' r parts.1 h.1 in
        let fs : Fields = one d then many empty then missing then many empty then done in
        record { outer = (export-keeps l all k fs (export_with k d) xs h.0.0, rest.outer); inside = (declares-keep (exported k fs) (in-export k fs) s-Declaration d u xs g (exported-part k d parts.0) h.0.1.0, rest.inside) }
    lists-keep ts os us (default_export_of {l = k} {d = d} {x = x} {u = u} {ts = ts'} {os = os'} {us = us'} g r) f h =
        let rest = lists-keep ts' os' us' r (first-formed s-Statement (default_with k d) ts' f).1 h.1 in
        record { outer = (default-keeps k (default_with k d) d x u g h.0.0, rest.outer); inside = (defaults-keep k (one d then done) (default_with k d) d x u g h.0.1.0, rest.inside) }

    -- and the `try` behind what stays
    pub lowered-keep : (ts os : Trees) → Moves default context error ts os whole → trees_form s-Statement s-Statement ts ≡ true → KeepsAll up ts → KeepsAll up (lowered context error os whole)
    lowered-keep ts os r f h =
        let lists = lists-keep ts os whole r f h in
        all-joined up os (protected context error whole before empty) lists.outer (protected-keeps context error whole up (frame-made up TryStatement (made [] []) (in_try context error whole) refl refl refl) lists.inside, tt)

-- THE PROGRAM

program-here : (l : Label) (fs gs : Fields) → KeepsHere [] (node Program l fs) → KeepsHere [] (node Program l gs)
program-here l fs gs h = record { jump = refl; label = refl; returned = refl; super_word = refl; target = refl; chain = refl; mark = refl; deleted = refl; value = refl; using_word = refl; head = refl; item = refl; accessor = refl; rest = refl; declaration = refl; meta = refl }

alike : (l : Label) (old new : Fields) (i : ℕ) → Alike (ancestor Program l old i 0) (ancestor Program l new i 0)
alike l old new i = record { kind = refl; label = refl; index = refl; labels = refl; derived = refl }

pub program-keeps : (default context error : Bound) (l : Label) (d : Field) (ts os us : Trees) → Moves default context error ts os us → trees_form s-Statement s-Statement ts ≡ true → Keeps [] (program_with l d ts) → Keeps [] (program_with l d (lowered context error os us))
program-keeps default context error l d ts os us r f k =
    let old : Fields = d then (statements ts then done) in
    let new : Fields = d then (statements (lowered context error os us) then done) in
    let directives = field-again [] [] (ancestor Program l old 0 0) (ancestor Program l new 0 0) (alike l old new 0) (offers-self []) (near-self []) d k.1.0 in
    let list = all-again [] [] (ancestor Program l old 1 0) (ancestor Program l new 1 0) (alike l old new 1) (offers-self []) (near-self []) ts k.1.1.0 in
    (program-here l old new k.0, (directives, (lowered-keep l new context error us default ts os r f list, tt)))
