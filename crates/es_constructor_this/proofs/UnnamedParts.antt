-- Where a name stands in none of what is gone through, no tree there declares it around it: so each scope there has it from around.
use Rattle.std.proofs.Common.{◌≡◌, ◌∙◌, ℕ, zero, suc, refl, sym, ap, subst, List, [], ◌∷◌, ◌++◌, drop, true≢false}
use Rattle.std.specs.Prelude.{Bool, true, false, ◌&&◌, Option, Some, None, bytes_eq, is_some, map, if◌then◌else◌}
use Rattle.std.proofs.lemmas.Bool.{and_parts, or_parts}
use Rattle.es_tree.specs.Attributes.{child_entries}
use Rattle.es_tree.specs.HasForm.{field_form, fields_form, has_form, same_type, trees_form}
use Rattle.es_tree.specs.Names.{first_text, is_name_place}
use Rattle.es_tree.specs.Tree.{Tree, node, Label, Fields, done, ◌then◌, Field, missing, one, many, statements, Trees, empty, ◌before◌}
use Rattle.es_tree.specs.Words.{Text}
use Rattle.es_tree.specs.declared.ast_type.AstType.{AstType}
use Rattle.es_tree.specs.declared.ast_type.AstType.TheVariants.{ArrowFunctionExpression, ClassDeclaration, ClassExpression, FunctionBody, FunctionDeclaration, FunctionExpression, Identifier, Program, StaticBlock}
use Rattle.es_tree.specs.declared.table.Content.TheVariants.{Child as c-Child}
use Rattle.es_tree.specs.declared.table.Often.TheVariants.{Optional}
use Rattle.es_tree.specs.declared.table.Sort.TheVariants.{Expression as s-Expression, FunctionBody as s-FunctionBody, Identifier as s-Identifier, Pattern as s-Pattern, PatternRest as s-PatternRest}
use Rattle.es_tree.proofs.NodeForm.{has_form-node, node_form}
use Rattle.es_semantic.specs.Places.{is_inside}
use Rattle.es_semantic.specs.RolesOf.{function_binding, reads, role_at}
use Rattle.es_semantic.specs.declared.place.Role.{Role}
use Rattle.es_semantic.specs.declared.place.Role.TheVariants.{Binds, Nothing}
use Rattle.es_resolution.specs.Declarations.{Bound, declared, declared_among, declared_by, declared_in, has_scope, is_asked, is_var_scope, own_declared, reaches_out, sought, symbol_of}
use Rattle.es_resolution.specs.Resolved.{Place, bound_by, class_frame, first_declared, name_frame, or_around, own_by, place_in, with_symbol, within, within_vars}
use Rattle.es_resolution.proofs.AllForms.{All, AllAmong, AllBy, AllIn}
use Rattle.es_resolution.proofs.Declares.{declared-none}
use Rattle.es_steps.specs.Steps.{Site}
use Rattle.es_changes.proofs.Expressions.{declares-none}
use Rattle.es_pattern_moves.proofs.MovedInward.{sites}
use Rattle.es_pattern_moves.proofs.NamesApart.{place-role}
use Rattle.es_pattern_moves.proofs.PatternNames.{both-out, if-out, none-out}
use Rattle.es_pattern_moves.proofs.Settled.{Sound}
use Rattle.es_set_this.specs.ConstructorThis.{is_closed, names_among, names_by, names_in, names_it}
use Rattle.es_constructor_this.proofs.SameSites.{sites-are}

-- NOTHING IS DECLARED around a body, a function expression and an arrow

pub scope-none : (v : Bool) (r : Role) (k : AstType) (l : Label) (fs : Fields) → is_var_scope k ≡ true → declared v r (node k l fs) ≡ []
scope-none true r Program l fs e = declared-none true (role_at r Program l fs) fs
scope-none true r FunctionBody l fs e = declared-none true (role_at r FunctionBody l fs) fs
scope-none true r StaticBlock l fs e = declared-none true (role_at r StaticBlock l fs) fs
scope-none false r Program l fs e = declared-none false (role_at r Program l fs) fs
scope-none false r FunctionBody l fs e = declared-none false (role_at r FunctionBody l fs) fs
scope-none false r StaticBlock l fs e = declared-none false (role_at r StaticBlock l fs) fs
scope-none v r k l fs e = absurd (cc e)

function-role : (r : Role) (l : Label) (fs : Fields) (i : ℕ) → role_at r FunctionExpression l fs i ≡ role_at reads FunctionExpression l fs i
function-role r l fs zero = refl
function-role r l fs (suc zero) = refl
function-role r l fs (suc (suc i)) = refl

arrow-role : (r : Role) (l : Label) (fs : Fields) (i : ℕ) → role_at r ArrowFunctionExpression l fs i ≡ role_at reads ArrowFunctionExpression l fs i
arrow-role r l fs zero = refl
arrow-role r l fs (suc zero) = refl
arrow-role r l fs (suc (suc i)) = refl

function-none : (v : Bool) (r : Role) (l : Label) (fs : Fields) → Sound FunctionExpression l fs → declared v r (node FunctionExpression l fs) ≡ []
function-none v r l fs h =
    let f = node_form h.sort FunctionExpression l fs h.form in
    (λ j. declared_in v (reaches_out v FunctionExpression) (λ i. function-role r l fs i j) fs)
    ∙ declares-none v reads s-Expression (node FunctionExpression l fs) refl refl (has_form-node s-Expression FunctionExpression l fs (record { sort = refl; texts = f.texts; flags = f.flags; start = f.start; stop = f.stop; agree = f.agree; children = f.children }))

arrow-none : (v : Bool) (r : Role) (l : Label) (fs : Fields) → Sound ArrowFunctionExpression l fs → declared v r (node ArrowFunctionExpression l fs) ≡ []
arrow-none v r l fs h =
    let f = node_form h.sort ArrowFunctionExpression l fs h.form in
    (λ j. declared_in v (reaches_out v ArrowFunctionExpression) (λ i. arrow-role r l fs i j) fs)
    ∙ declares-none v reads s-Expression (node ArrowFunctionExpression l fs) refl refl (has_form-node s-Expression ArrowFunctionExpression l fs (record { sort = refl; texts = f.texts; flags = f.flags; start = f.start; stop = f.stop; agree = f.agree; children = f.children }))

-- of a function declaration all but its name
patterns-none : (v : Bool) (r : Role) (ts : Trees) → is_asked v r ≡ false → trees_form s-Pattern s-PatternRest ts ≡ true → declared_among v r ts ≡ []
patterns-none v r empty o h = refl
patterns-none v r (t before empty) o h = λ i. declares-none v r s-PatternRest t o refl (and_parts (has_form s-PatternRest t) true h).0 i ++ []
patterns-none v r (t before u before ts) o h =
    let parts = and_parts (has_form s-Pattern t) (trees_form s-Pattern s-PatternRest (u before ts)) h in
    λ i. declares-none v r s-Pattern t o refl parts.0 i ++ patterns-none v r (u before ts) o parts.1 i

module _ (r : Role) (l : Label) (f : Field) (fs : Fields) where
  body-none : (v : Bool) (gs : Fields) → fields_form FunctionDeclaration l (drop 2 (child_entries FunctionDeclaration)) gs ≡ true →
      declared_in v (λ i. reaches_out v FunctionDeclaration (suc (suc i))) (λ i. role_at r FunctionDeclaration l (f then fs) (suc (suc i))) gs ≡ []
  body-none true (one b then done) h = λ i. declares-none true (role_at r FunctionDeclaration l (f then fs) 2) s-FunctionBody b refl refl (and_parts (has_form s-FunctionBody b) true h).0 i ++ []
  body-none false (one b then done) h = refl
  body-none v (one b then g then gs) h = absurd (true≢false (sym (and_parts (has_form s-FunctionBody b) false h).1))
  body-none v _ h = absurd (cc h)

  parts-none : (v : Bool) (gs : Fields) → fields_form FunctionDeclaration l (drop 1 (child_entries FunctionDeclaration)) gs ≡ true →
      declared_in v (λ i. reaches_out v FunctionDeclaration (suc i)) (λ i. role_at r FunctionDeclaration l (f then fs) (suc i)) gs ≡ []
  parts-none true (many ts then gs) h =
      let parts = and_parts (trees_form s-Pattern s-PatternRest ts) (fields_form FunctionDeclaration l (drop 2 (child_entries FunctionDeclaration)) gs) h in
      λ i. patterns-none true (role_at r FunctionDeclaration l (f then fs) 1) ts refl parts.0 i ++ body-none true gs parts.1 i
  parts-none false (many ts then gs) h = body-none false gs (and_parts (trees_form s-Pattern s-PatternRest ts) (fields_form FunctionDeclaration l (drop 2 (child_entries FunctionDeclaration)) gs) h).1
  parts-none v _ h = absurd (cc h)

behind-none : (v : Bool) (r : Role) (l : Label) (f : Field) (fs : Fields) → Sound FunctionDeclaration l (f then fs) → declared_in v (λ i. reaches_out v FunctionDeclaration (suc i)) (λ i. role_at r FunctionDeclaration l (f then fs) (suc i)) fs ≡ []
behind-none v r l f fs h = parts-none r l f fs v fs (and_parts (field_form FunctionDeclaration l (c-Child s-Identifier Optional) f) (fields_form FunctionDeclaration l (drop 1 (child_entries FunctionDeclaration)) fs) (node_form h.sort FunctionDeclaration l (f then fs) h.form).children).1

-- KINDS that are gone through

closed-scope : (k : AstType) → is_closed k ≡ false → is_var_scope k ≡ false
closed-scope FunctionDeclaration e = refl
closed-scope FunctionExpression e = refl
closed-scope ArrowFunctionExpression e = refl
closed-scope k e = e

closed-name : (k : AstType) (roles : ℕ → Role) (fs : Fields) → is_closed k ≡ false → name_frame k roles fs ≡ []
closed-name FunctionExpression roles fs e = absurd (cc e)
closed-name _ roles fs e = refl

module _ (y : Text) where
  abbrev Out : List Bound → Type 0
  Out bs = bound_by bs y ≡ false

  own-if : (c : Bool) (b : Bound) → bytes_eq b.name y ≡ false → Out (if c then b ∷ [] else [])
  own-if true b e = ap (λ q. is_some (if q then Some b.symbol else None)) e
  own-if false b e = refl

  own-out : (counts v : Bool) (r : Role) (k : AstType) (l : Label) → (counts ≡ false → r ≡ Nothing) → (counts && same_type k Identifier && bytes_eq (first_text l.texts) y) ≡ false → Out (own_declared v r k l)
  own-out true v r Identifier l none e = own-if (is_asked v r) (record { name = first_text l.texts; symbol = symbol_of l }) e
  own-out false v r Identifier l none e = subst (λ (q : Role). Out (own_declared v q Identifier l)) (sym (none refl)) refl
  own-out counts v r _ l none e = refl

  -- DECLARATIONS
  mutual
    pub tree-out : (counts v : Bool) (r : Role) (t : Tree) → All Sound t → (counts ≡ false → r ≡ Nothing) → names_it y counts t ≡ false → Out (declared v r t)
    tree-out counts v r (node Program l fs) h none e = none-out y (declared v r (node Program l fs)) (scope-none v r Program l fs refl)
    tree-out counts v r (node FunctionBody l fs) h none e = none-out y (declared v r (node FunctionBody l fs)) (scope-none v r FunctionBody l fs refl)
    tree-out counts v r (node StaticBlock l fs) h none e = none-out y (declared v r (node StaticBlock l fs)) (scope-none v r StaticBlock l fs refl)
    tree-out counts v r (node FunctionExpression l fs) h none e = none-out y (declared v r (node FunctionExpression l fs)) (function-none v r l fs h.0)
    tree-out counts v r (node ArrowFunctionExpression l fs) h none e = none-out y (declared v r (node ArrowFunctionExpression l fs)) (arrow-none v r l fs h.0)
    tree-out counts v r (node FunctionDeclaration l done) h none e = refl
    tree-out counts v r (node FunctionDeclaration l (f then fs)) h none e =
        let d = or_parts (counts && same_type FunctionDeclaration Identifier && bytes_eq (first_text l.texts) y) (names_by y true f) e in
        let b : Role = Binds (function_binding r) in
        both-out y (if reaches_out v FunctionDeclaration zero then declared_by v b f else []) (declared_in v (λ i. reaches_out v FunctionDeclaration (suc i)) (λ i. role_at r FunctionDeclaration l (f then fs) (suc i)) fs)
        (if-out y (reaches_out v FunctionDeclaration zero) (declared_by v b f) (λ c. by-out true v b f h.1.0 (λ x. absurd (true≢false x)) d.1))
        (none-out y _ (behind-none v r l f fs h.0))
    tree-out counts v r (node k l fs) h none e =
        let d = or_parts (counts && same_type k Identifier && bytes_eq (first_text l.texts) y) (names_in y (is_name_place k l) fs) e in
        both-out y (own_declared v r k l) (declared_in v (reaches_out v k) (role_at r k l fs) fs) (own-out counts v r k l none d.0) (in-out (is_name_place k l) v (reaches_out v k) (role_at r k l fs) fs h.1 (place-role r k l fs) d.1)

    pub in-out : (counts : ℕ → Bool) (v : Bool) (reach : ℕ → Bool) (roles : ℕ → Role) (fs : Fields) → AllIn Sound fs → ((i : ℕ) → counts i ≡ false → roles i ≡ Nothing) → names_in y counts fs ≡ false → Out (declared_in v reach roles fs)
    in-out counts v reach roles done h none e = refl
    in-out counts v reach roles (f then fs) h none e =
        let d = or_parts (names_by y (counts zero) f) (names_in y (λ i. counts (suc i)) fs) e in
        both-out y (if reach zero then declared_by v (roles zero) f else []) (declared_in v (λ i. reach (suc i)) (λ i. roles (suc i)) fs)
        (if-out y (reach zero) (declared_by v (roles zero) f) (λ c. by-out (counts zero) v (roles zero) f h.0 (none zero) d.0))
        (in-out (λ i. counts (suc i)) v (λ i. reach (suc i)) (λ i. roles (suc i)) fs h.1 (λ i. none (suc i)) d.1)

    by-out : (counts v : Bool) (r : Role) (f : Field) → AllBy Sound f → (counts ≡ false → r ≡ Nothing) → names_by y counts f ≡ false → Out (declared_by v r f)
    by-out counts v r missing h none e = refl
    by-out counts v r (one t) h none e = tree-out counts v r t h none e
    by-out counts v r (many ts) h none e = among-out v r ts h e
    by-out counts v r (statements ts) h none e = among-out v r ts h e

    pub among-out : (v : Bool) (r : Role) (ts : Trees) → AllAmong Sound ts → names_among y ts ≡ false → Out (declared_among v r ts)
    among-out v r empty h e = refl
    among-out v r (t before ts) h e =
        let d = or_parts (names_it y true t) (names_among y ts) e in
        both-out y (declared v r t) (declared_among v r ts) (tree-out true v r t h.0 (λ x. absurd (true≢false x)) d.0) (among-out v r ts h.1 d.1)

  -- THE NAME that stands first

  name-out : (counts : Bool) (r : Role) (t : Tree) → (counts ≡ false → r ≡ Nothing) → names_it y counts t ≡ false → Out (own_by r (one t))
  name-out true (Binds b) (node Identifier l fs) none e = own-if true (record { name = first_text l.texts; symbol = symbol_of l }) (or_parts (bytes_eq (first_text l.texts) y) _ e).0
  name-out false (Binds b) (node Identifier l fs) none e = absurd (let no = none refl in cc no)
  name-out counts _ (node Identifier l fs) none e = refl
  name-out counts r (node _ l fs) none e = refl

  first-out : (counts : ℕ → Bool) (roles : ℕ → Role) (fs : Fields) → ((i : ℕ) → counts i ≡ false → roles i ≡ Nothing) → names_in y counts fs ≡ false → Out (first_declared roles fs)
  first-out counts roles done none e = refl
  first-out counts roles (missing then fs) none e = refl
  first-out counts roles (one t then fs) none e = name-out (counts zero) (roles zero) t (none zero) (or_parts (names_it y (counts zero) t) _ e).0
  first-out counts roles (many ts then fs) none e = refl
  first-out counts roles (statements ts then fs) none e = refl

  with-out : (s : Option ℕ) (bs : List Bound) → Out bs → Out (map (with_symbol s) bs)
  with-out s [] e = refl
  with-out s (b ∷ bs) e = at (bytes_eq b.name y) e (with-out s bs)
    where
      at : (c : Bool) → is_some (if c then Some b.symbol else sought bs y) ≡ false → (Out bs → Out (map (with_symbol s) bs)) → is_some (if c then Some s else sought (map (with_symbol s) bs) y) ≡ false
      at true e h = absurd (cc e)
      at false e h = h e

  class-out : (counts : ℕ → Bool) (k : AstType) (l : Label) (roles : ℕ → Role) (fs : Fields) → ((i : ℕ) → counts i ≡ false → roles i ≡ Nothing) → names_in y counts fs ≡ false → Out (class_frame k l roles fs)
  class-out counts ClassDeclaration l roles fs none e = with-out (symbol_of l) (first_declared roles fs) (first-out counts roles fs none e)
  class-out counts ClassExpression l roles fs none e = with-out (symbol_of l) (first_declared roles fs) (first-out counts roles fs none e)
  class-out counts _ l roles fs none e = refl

  -- PLACES

  pub found-around : (bs : List Bound) (around : Text → Option ℕ) → Out bs → within bs around y ≡ around y
  found-around bs around e = at (sought bs y) e
    where
      at : (o : Option (Option ℕ)) → is_some o ≡ false → or_around o (around y) ≡ around y
      at None e = refl
      at (Some s) e = absurd (cc e)

  module _ (p : Place) (k : AstType) (l : Label) (roles : ℕ → Role) (fs : Fields) (i : ℕ) where
    place-out : is_closed k ≡ false → Out (class_frame k l roles fs ++ declared_in false (is_inside k) roles fs) → (place_in p k l roles fs i).scope y ≡ p.scope y
    place-out e d = by-inside (has_scope k && is_inside k i)
      where
        names : Text → Option ℕ
        names = within (name_frame k roles fs) p.scope

        outer : names y ≡ p.scope y
        outer = ap (λ bs. within bs p.scope y) (closed-name k roles fs e)

        vars : Text → Option ℕ
        vars = if is_var_scope k then within_vars p.parameters (declared_in true (λ m. true) roles fs) names else names

        kept : vars y ≡ names y
        kept = λ j. (if closed-scope k e j then within_vars p.parameters (declared_in true (λ m. true) roles fs) names else names) y

        by-inside : (b : Bool) → (if b then within (class_frame k l roles fs ++ declared_in false (is_inside k) roles fs) vars else names) y ≡ p.scope y
        by-inside true = found-around (class_frame k l roles fs ++ declared_in false (is_inside k) roles fs) vars d ∙ kept ∙ outer
        by-inside false = outer

  -- the site of a field of a node that is gone through
  pub site-out : (n : Site) (k : AstType) (l : Label) (fs : Fields) (i : ℕ) → is_closed k ≡ false → AllIn Sound fs → names_in y (is_name_place k l) fs ≡ false → (sites n k l fs i).names.scope y ≡ n.names.scope y
  site-out n k l fs i closed h e =
      let roles : ℕ → Role = role_at n.role k l fs in
      let none = place-role n.role k l fs in
      ap (λ (s : Site). s.names.scope y) (sites-are n k l fs i)
      ∙ place-out n.names k l roles fs i closed (both-out y (class_frame k l roles fs) (declared_in false (is_inside k) roles fs) (class-out (is_name_place k l) k l roles fs none e) (in-out (is_name_place k l) false (is_inside k) roles fs h none e))
