-- A program in whose list an export is split: the static rules of places are kept. The declaration stands in the list itself, and rules ask nothing of a
-- name that a declaration at the top of a program declares that they didn't ask there.
use Rattle.std.proofs.Common.{◌≡◌, ℕ, zero, suc, refl, sym, subst, List, [], ◌∷◌}
use Rattle.std.specs.Prelude.{Bool, true, false, ◌&&◌, ◌||◌, bytes_eq, codes}
use Rattle.std.proofs.lemmas.Bool.{and_parts}
use Rattle.es_tree.specs.Ancestors.{Ancestor, ancestor, place_of}
use Rattle.es_tree.specs.Attributes.{child_entries}
use Rattle.es_tree.specs.CoreStaticRules.{is_lexical, place_in}
use Rattle.es_tree.specs.HasForm.{field_form, fields_form, has_form, trees_form}
use Rattle.es_tree.specs.Names.{first_text}
use Rattle.es_tree.specs.StaticRules.{has_pattern}
use Rattle.es_tree.specs.Tree.{Label, Field, Fields, Tree, node, done, ◌then◌, missing, many, one, statements, Trees, empty, ◌before◌}
use Rattle.es_tree.specs.declared.ast_type.AstType.{AstType}
use Rattle.es_tree.specs.declared.ast_type.AstType.TheVariants.{ArrayPattern, ExportNamedDeclaration, Identifier, ObjectPattern, Program, VariableDeclaration, VariableDeclarator}
use Rattle.es_tree.specs.declared.place.Place.{Place}
use Rattle.es_tree.specs.declared.place.Place.TheVariants.{Other}
use Rattle.es_tree.specs.declared.table.Content.TheVariants.{Child as c-Child}
use Rattle.es_tree.specs.declared.table.Often.TheVariants.{Optional, Required}
use Rattle.es_tree.specs.declared.table.Sort.TheVariants.{Binding as s-Binding, Declaration as s-Declaration, Expression as s-Expression, Statement as s-Statement, VariableDeclarator as s-VariableDeclarator}
use Rattle.es_tree.proofs.NodeForm.{node_form}
use Rattle.es_steps.specs.Nodes.{joined_trees, made}
use Rattle.es_steps.proofs.FormLists.{first-formed}
use Rattle.es_valid_steps.specs.PlaceRules.{Keeps, KeepsAll, KeepsHere, KeepsIn}
use Rattle.es_valid_steps.proofs.Moves.{in-moved, keeps-moved, never-and}
use Rattle.es_valid_steps.proofs.Offers.{Alike, PlaceOffers, Near, Offers, alike-self, near-self, offers-self, offers-within}
use Rattle.es_valid_steps.proofs.Offers.PlaceOffers.{same_place}
use Rattle.es_valid_rests.proofs.RestPlacesFunctions.{all-again, all-joined, all-parts, field-again}
use Rattle.es_top_imports.proofs.TopForms.{program_with}
use Rattle.es_export_splits.specs.Splits.{export_of, names_of_declaration, specifiers, split_before, with_symbols}
use Rattle.es_export_splits.proofs.ExportForms.{exported-formed}
use Rattle.es_export_splits.proofs.ExportNames.{IsExport}
use Rattle.es_export_splits.proofs.ExportNames.IsExport.{is_export}

module _ (l : Label) (all : Fields) where
  -- in the list of a program
  abbrev up : List Ancestor
  up = ancestor Program l all 1 0 ∷ []

  -- THE EXPORT

  module _ (es : Fields) where
    abbrev exporting : List Ancestor
    exporting = ancestor ExportNamedDeclaration (made [] []) es 1 0 ∷ up

    specifiers-keep : (xs : List Tree) → KeepsAll exporting (specifiers with_symbols xs)
    specifiers-keep [] = tt
    specifiers-keep (x ∷ xs) = (
      (
        record { jump = refl; label = refl; returned = refl; super_word = refl; target = refl; chain = refl; mark = refl; deleted = refl; value = refl; using_word = refl; head = refl; item = refl; accessor = refl; rest = refl; declaration = refl; meta = refl },
        (
          (record { jump = refl; label = refl; returned = refl; super_word = refl; target = refl; chain = refl; mark = refl; deleted = refl; value = refl; using_word = refl; head = refl; item = refl; accessor = refl; rest = refl; declaration = refl; meta = refl }, tt),
          ((record { jump = refl; label = refl; returned = refl; super_word = refl; target = refl; chain = refl; mark = refl; deleted = refl; value = refl; using_word = refl; head = refl; item = refl; accessor = refl; rest = refl; declaration = refl; meta = refl }, tt), tt),
        ),
      ),
      specifiers-keep xs,
    )

  pub export-keeps : (m : Label) (fs : Fields) (t : Tree) (xs : List Tree) → KeepsHere up (node ExportNamedDeclaration m fs) → Keeps up (export_of with_symbols t xs)
  export-keeps m fs t xs h = (
    record { jump = refl; label = refl; returned = refl; super_word = refl; target = refl; chain = refl; mark = refl; deleted = refl; value = refl; using_word = refl; head = refl; item = h.item; accessor = refl; rest = refl; declaration = refl; meta = refl },
    (tt, (specifiers-keep (missing then many (specifiers with_symbols xs) then missing then many empty then done) xs, (tt, (tt, tt)))),
  )

  -- THE DECLARATION, which stood in an export

  module _ (m : Label) (es : Fields) where
    abbrev exported : List Ancestor
    exported = ancestor ExportNamedDeclaration m es 0 0 ∷ up

    offers : Offers true exported up
    offers = record { labels = refl; loop = λ j h. h; breakable = λ j h. h; function = λ h. h; members = λ h. h; calls = λ h. h; targets = λ h. h; in_module = refl; method = λ h. h; constructor = λ h. h; class = λ h. absurd (let no : false ≡ true = h in cc no) }

    module _ (k : Label) (ds : Trees) (fs : Fields) where
      abbrev its : Fields
      its = many ds then fs

      abbrev old_declaration : List Ancestor
      old_declaration = ancestor VariableDeclaration k its 0 0 ∷ exported

      abbrev new_declaration : List Ancestor
      new_declaration = ancestor VariableDeclaration k its 0 0 ∷ up

      declaration-offers : Offers true old_declaration new_declaration
      declaration-offers = offers-within true exported up (ancestor VariableDeclaration k its 0 0) (ancestor VariableDeclaration k its 0 0) (alike-self _) offers (λ e. refl)

      -- a declarator
      module _ (n : Label) (p : Tree) (gs : Fields) where
        abbrev parts : Fields
        parts = one p then gs

        abbrev old_declarator : ℕ → List Ancestor
        old_declarator i = ancestor VariableDeclarator n parts i 0 ∷ old_declaration

        abbrev new_declarator : ℕ → List Ancestor
        new_declarator i = ancestor VariableDeclarator n parts i 0 ∷ new_declaration

        declarator-offers : (i : ℕ) → Offers true (old_declarator i) (new_declarator i)
        declarator-offers i = offers-within true old_declaration new_declaration (ancestor VariableDeclarator n parts i 0) (ancestor VariableDeclarator n parts i 0) (alike-self _) declaration-offers (λ e. refl)

        value-near : Near (old_declarator 1) (new_declarator 1)
        value-near = record { place = same_place Other; head = alike-self _; rest = λ t. refl }

        value-keeps : (e : Tree) → Keeps (old_declarator 1) e → Keeps (new_declarator 1) e
        value-keeps e h = keeps-moved true (old_declarator 1) (new_declarator 1) e (declarator-offers 1) value-near (λ d. absurd (let no : true ≡ false = d in cc no)) h

        declarator-here : KeepsHere old_declaration (node VariableDeclarator n parts) → KeepsHere new_declaration (node VariableDeclarator n parts)
        declarator-here h = record { jump = refl; label = refl; returned = refl; super_word = refl; target = refl; chain = refl; mark = refl; deleted = refl; value = h.value; using_word = refl; head = refl; item = refl; accessor = refl; rest = refl; declaration = refl; meta = refl }

        -- what it declares
        module _ (j : AstType) (q : Label) (hs : Fields) (same : place_in (place_of (new_declarator 0)) j q 0 ≡ place_in (place_of (old_declarator 0)) j q 0) where
          same-place : (i : ℕ) → place_in (place_of (new_declarator 0)) j q i ≡ place_in (place_of (old_declarator 0)) j q i
          same-place zero = same
          same-place (suc zero) = refl
          same-place (suc (suc i)) = refl

          inner-near : (i : ℕ) → Near (ancestor j q hs i 0 ∷ old_declarator 0) (ancestor j q hs i 0 ∷ new_declarator 0)
          inner-near i = record { place = subst (λ (r : Place). PlaceOffers (place_of (ancestor j q hs i 0 ∷ old_declarator 0)) r) (sym (same-place i)) (same_place _); head = alike-self _; rest = λ t. refl }

          inner-keeps : KeepsIn (old_declarator 0) j q hs 0 hs → KeepsIn (new_declarator 0) j q hs 0 hs
          inner-keeps h = in-moved true (old_declarator 0) (new_declarator 0) j q hs hs 0 hs (λ i. offers-within true (old_declarator 0) (new_declarator 0) (ancestor j q hs i 0) (ancestor j q hs i 0) (alike-self _) (declarator-offers 0) (λ e. absurd (let no : true ≡ false = e in cc no))) inner-near (λ d. absurd (let no : true ≡ false = d in cc no)) h

        pattern-keeps : (t : Tree) → has_form s-Binding t ≡ true → Keeps (old_declarator 0) t → Keeps (new_declarator 0) t
        pattern-keeps (node Identifier q hs) f h = (record { jump = refl; label = refl; returned = refl; super_word = refl; target = refl; chain = refl; mark = refl; deleted = refl; value = refl; using_word = refl; head = refl; item = refl; accessor = refl; rest = refl; declaration = refl; meta = refl }, inner-keeps Identifier q hs refl h.1)
        pattern-keeps (node ObjectPattern q hs) f h = (record { jump = refl; label = refl; returned = refl; super_word = refl; target = refl; chain = refl; mark = refl; deleted = refl; value = refl; using_word = refl; head = refl; item = refl; accessor = refl; rest = refl; declaration = refl; meta = refl }, inner-keeps ObjectPattern q hs refl h.1)
        pattern-keeps (node ArrayPattern q hs) f h = (record { jump = refl; label = refl; returned = refl; super_word = refl; target = refl; chain = refl; mark = refl; deleted = refl; value = refl; using_word = refl; head = refl; item = refl; accessor = refl; rest = refl; declaration = refl; meta = refl }, inner-keeps ArrayPattern q hs refl h.1)
        pattern-keeps (node j q hs) f h = absurd (let no : false ≡ true = (node_form s-Binding j q hs f).sort in cc no)

      declarator-keeps : (t : Tree) → has_form s-VariableDeclarator t ≡ true → Keeps old_declaration t → Keeps new_declaration t
      declarator-keeps (node VariableDeclarator n hs) f h = at hs (node_form s-VariableDeclarator VariableDeclarator n hs f).children h
        where
          at : (hs : Fields) → fields_form VariableDeclarator n (child_entries VariableDeclarator) hs ≡ true → Keeps old_declaration (node VariableDeclarator n hs) → Keeps new_declaration (node VariableDeclarator n hs)
          at (one p then missing then done) f h = (declarator-here n p (missing then done) h.0, (pattern-keeps n p (missing then done) p (and_parts (has_form s-Binding p) true f).0 h.1.0, (tt, tt)))
          at (one p then one e then done) f h = (declarator-here n p (one e then done) h.0, (pattern-keeps n p (one e then done) p (and_parts (has_form s-Binding p) _ f).0 h.1.0, (value-keeps n p (one e then done) e h.1.1.0, tt)))
          at done f h = absurd (let no : false ≡ true = f in cc no)
          at (g then done) f h = absurd (let no : false ≡ true = (and_parts (field_form VariableDeclarator n (c-Child s-Binding Required) g) false f).1 in cc no)
          at (g then i then j then hs) f h = absurd (let no : false ≡ true = (and_parts (field_form VariableDeclarator n (c-Child s-Expression Optional) i) false (and_parts (field_form VariableDeclarator n (c-Child s-Binding Required) g) _ f).1).1 in cc no)
          at (g then many ts then done) f h = absurd (let no : false ≡ true = (and_parts (field_form VariableDeclarator n (c-Child s-Binding Required) g) false f).1 in cc no)
          at (g then statements ts then done) f h = absurd (let no : false ≡ true = (and_parts (field_form VariableDeclarator n (c-Child s-Binding Required) g) false f).1 in cc no)
          at (g then i then done) f h = absurd (let no : false ≡ true = f in cc no)
      declarator-keeps (node j q hs) f h = absurd (let no : false ≡ true = (node_form s-VariableDeclarator j q hs f).sort in cc no)

      declarators-keep : (ts : Trees) → trees_form s-VariableDeclarator s-VariableDeclarator ts ≡ true → KeepsAll old_declaration ts → KeepsAll new_declaration ts
      declarators-keep empty f h = tt
      declarators-keep (t before ts) f h = let parts = first-formed s-VariableDeclarator t ts f in (declarator-keeps t parts.0 h.0, declarators-keep ts parts.1 h.1)

      declaration-here : KeepsHere exported (node VariableDeclaration k its) → KeepsHere up (node VariableDeclaration k its)
      declaration-here h = record { jump = refl; label = refl; returned = refl; super_word = refl; target = refl; chain = refl; mark = refl; deleted = refl; value = refl; using_word = no-using (bytes_eq (first_text k.texts) (codes "using")) (has_pattern ds) _ h.using_word; head = refl; item = refl; accessor = refl; rest = refl; declaration = never-and (is_lexical (first_text k.texts)) false refl; meta = refl }
        where
          no-using : (a b c : Bool) → (a && (b || false || false || true)) ≡ false → (a && (b || c || false || false)) ≡ false
          no-using true true c e = absurd (let no : true ≡ false = e in cc no)
          no-using true false c e = absurd (let no : true ≡ false = e in cc no)
          no-using false b c e = refl

    declaration-keeps : (k : Label) (ds : Trees) (fs : Fields) → has_form s-Declaration (node VariableDeclaration k (many ds then fs)) ≡ true → Keeps exported (node VariableDeclaration k (many ds then fs)) → Keeps up (node VariableDeclaration k (many ds then fs))
    declaration-keeps k empty fs f h = absurd (let no : false ≡ true = (node_form s-Declaration VariableDeclaration k (many empty then fs) f).children in cc no)
    declaration-keeps k (t before ts) done f h = (declaration-here k (t before ts) done h.0, (declarators-keep k (t before ts) done (t before ts) (and_parts (trees_form s-VariableDeclarator s-VariableDeclarator (t before ts)) true (node_form s-Declaration VariableDeclaration k (many (t before ts) then done) f).children).0 h.1.0, tt))
    declaration-keeps k (t before ts) (g then fs) f h = absurd (let no : false ≡ true = (and_parts (trees_form s-VariableDeclarator s-VariableDeclarator (t before ts)) false (node_form s-Declaration VariableDeclaration k (many (t before ts) then g then fs) f).children).1 in cc no)

  -- THE STATEMENTS that an export becomes

  split-keeps : (t : Tree) → IsExport t → (after_it : Trees) → has_form s-Statement t ≡ true → KeepsAll up (t before after_it) → KeepsAll up (split_before with_symbols t after_it)
  split-keeps t (is_export m k ds fs) after_it f h =
      let it = node VariableDeclaration k (many ds then fs) in
      (declaration-keeps m (one it then many empty then missing then many empty then done) k ds fs (exported-formed m k (many ds then fs) f) h.0.1.0, (export-keeps m (one it then many empty then missing then many empty then done) t (names_of_declaration it) h.0.0, h.1))

-- THE PROGRAM

program-here : (l : Label) (fs gs : Fields) → KeepsHere [] (node Program l fs) → KeepsHere [] (node Program l gs)
program-here l fs gs h = record { jump = refl; label = refl; returned = refl; super_word = refl; target = refl; chain = refl; mark = refl; deleted = refl; value = refl; using_word = refl; head = refl; item = refl; accessor = refl; rest = refl; declaration = refl; meta = refl }

alike : (l : Label) (old new : Fields) (i : ℕ) → Alike (ancestor Program l old i 0) (ancestor Program l new i 0)
alike l old new i = record { kind = refl; label = refl; index = refl; labels = refl; derived = refl }

statement-formed : (before_it after_it : Trees) (t : Tree) → trees_form s-Statement s-Statement (joined_trees before_it (t before after_it)) ≡ true → has_form s-Statement t ≡ true
statement-formed empty after_it t f = (first-formed s-Statement t after_it f).0
statement-formed (b before before_it) after_it t f = statement-formed before_it after_it t (first-formed s-Statement b (joined_trees before_it (t before after_it)) f).1

pub program-keeps : (l : Label) (d : Field) (before_it after_it : Trees) (t : Tree) → IsExport t → trees_form s-Statement s-Statement (joined_trees before_it (t before after_it)) ≡ true → Keeps [] (program_with l d (joined_trees before_it (t before after_it))) → Keeps [] (program_with l d (joined_trees before_it (split_before with_symbols t after_it)))
program-keeps l d before_it after_it t e f k =
    let old : Fields = d then (statements (joined_trees before_it (t before after_it)) then done) in
    let new : Fields = d then (statements (joined_trees before_it (split_before with_symbols t after_it)) then done) in
    let directives = field-again [] [] (ancestor Program l old 0 0) (ancestor Program l new 0 0) (alike l old new 0) (offers-self []) (near-self []) d k.1.0 in
    let list = all-parts (up l new) before_it (t before after_it) (all-again [] [] (ancestor Program l old 1 0) (ancestor Program l new 1 0) (alike l old new 1) (offers-self []) (near-self []) (joined_trees before_it (t before after_it)) k.1.1.0) in
    let more = all-joined (up l new) before_it (split_before with_symbols t after_it) list.0 (split-keeps l new t e after_it (statement-formed before_it after_it t f) list.1) in
    (program-here l old new k.0, (directives, (more, tt)))
