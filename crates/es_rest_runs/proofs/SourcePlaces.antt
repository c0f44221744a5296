-- The source of a pattern that is read again: it is bound, and the pattern doesn't write it.
use Rattle.std.proofs.Common.{◌≡◌, ℕ, refl, sym, ap, ◌∙◌, List, [], ◌∷◌}
use Rattle.std.proofs.lemmas.Bool.{and_parts, not-true}
use Rattle.std.specs.List.{list_any}
use Rattle.std.specs.Prelude.{Bool, true, false, not, ◌&&◌, ◌||◌, Option, Some, None, bytes_eq, codes, is_some, if◌then◌else◌}
use Rattle.es_tree.specs.BoundNames.{bound_identifiers}
use Rattle.es_tree.specs.Names.{first_text}
use Rattle.es_tree.specs.Scopes.{Declared, declares}
use Rattle.es_tree.specs.Tree.{Tree, node, Label, Fields, done, ◌then◌, one, many, Trees, ◌before◌, label_of}
use Rattle.es_tree.specs.Walks.{all_nodes, all_in_fields}
use Rattle.es_tree.specs.Words.{Text}
use Rattle.es_tree.specs.declared.ast_type.AstType.TheVariants.{ObjectPattern, VariableDeclaration, VariableDeclarator}
use Rattle.es_runs.specs.Alike.{bad_names}
use Rattle.es_runs.specs.Runs.{none_hidden, only}
use Rattle.es_semantic.specs.RolesOf.{binding_of, reads, role_at}
use Rattle.es_semantic.specs.SymbolsOf.{hoists}
use Rattle.es_semantic.specs.declared.place.Binding.TheVariants.{Constant, Let, Variable}
use Rattle.es_semantic.specs.declared.place.Role.{Role}
use Rattle.es_semantic.specs.declared.place.Role.TheVariants.{Binds}
use Rattle.es_resolution.specs.Declarations.{is_asked, symbol_of}
use Rattle.es_resolution.specs.Resolved.{Place, bound_by, place_in}
use Rattle.es_steps.specs.Duplication.{is_among_symbols}
use Rattle.es_steps.specs.Nodes.{joined_trees}
use Rattle.es_steps.specs.ObjectRest.{declares_as}
use Rattle.es_steps.specs.Steps.{Whole}
use Rattle.es_rest_rows.specs.RestRows.{binds_name, declaring, is_kept}
use Rattle.es_statement_runs.specs.Places.{avoids, target_taken}
use Rattle.es_statement_runs.specs.Programs.{names_no_cell}
use Rattle.es_statement_runs.specs.Scopes.{is_own_cell}
use Rattle.es_statement_steps.proofs.AvoidedNames.{Suits, is_aimed}
use Rattle.es_statement_steps.proofs.DeclaredNames.{any_called, pattern_names}
use Rattle.es_rest_runs.specs.Laws.{keeps_made}
use Rattle.es_rest_runs.proofs.SeenPlaces.{Known, Seen, known_below, known_joined}
use Rattle.es_rest_runs.proofs.SparedNames.{other_binds, spared_avoids}
use Rattle.es_rest_runs.proofs.TakenNames.{name_at}

-- THE SOURCE

-- a declaration binds by `var`, or lexically
asked_word : (word : Text) → is_asked (hoists (binding_of word)) (Binds (binding_of word)) ≡ true
asked_word word = at (bytes_eq word (codes "var")) (bytes_eq word (codes "let"))
  where
    at : (a b : Bool) → is_asked (hoists (if a then Variable else if b then Let else Constant)) (Binds (if a then Variable else if b then Let else Constant)) ≡ true
    at true b = refl
    at false true = refl
    at false false = refl

called_is : (x : Text) (ts : List Tree) → list_any (λ t. bytes_eq (first_text (label_of t).texts) x) ts ≡ any_called x ts
called_is x [] = refl
called_is x (node k l fs ∷ ts) = ap (λ b. bytes_eq (first_text l.texts) x || b) (called_is x ts)

and_none : (a b : Bool) → b ≡ false → (a && b) ≡ false
and_none true b h = h
and_none false b h = refl

-- it has a symbol, and the pattern doesn't write it
record Source (ls : Label) (P : Tree) : Type 0 where
  bound : is_some (symbol_of ls) ≡ true
  spared : avoids (bad_names none_hidden (only (first_text ls.texts))) target_taken P ≡ true

module _ (w : Whole) (word : Text) (ls lp : Label) (ps : Trees) where
  abbrev P : Tree
  P = node ObjectPattern lp (many ps then done)

  abbrev s : Text
  s = first_text ls.texts

  abbrev B : Role
  B = Binds (binding_of word)

  suits : Suits is_aimed B target_taken ObjectPattern
  suits = record { told = λ e. absurd (cc e); target = λ e a. refl; pattern = λ e. refl }

  steady_source : (p : Place) → Known w B p P → symbol_of ls ≡ p.scope s → (o : Option ℕ) → symbol_of ls ≡ o → is_among_symbols w.steady o ≡ true → binds_name s P ≡ false → Source ls P
  steady_source p known found None e h b = absurd (cc h)
  steady_source p known found (Some m) e h b =
      let v = hoists (binding_of word) in
      let unbound : other_binds s v B ≡ false = ap not (asked_word word) in
      let apart = pattern_names s v B P refl (λ o. refl) known.fine ∙ and_none (is_asked v B) (any_called s (bound_identifiers P)) (sym (called_is s (bound_identifiers P)) ∙ b) in
      record {
        bound = ap is_some e;
        spared = spared_avoids s v m B target_taken p P suits (sym found ∙ e) known.resolved unbound apart (known.unwritten m h) refl known.fine;
      }

  made_source : (l : Label) → all_nodes (keeps_made w.made) (declares_as l P (name_at ls)) ≡ true → bound_by w.made s ≡ true → Source ls P
  made_source l h e =
      let here = (and_parts (keeps_made w.made VariableDeclarator l (one P then (one (name_at ls) then done))) (all_in_fields (keeps_made w.made) (one P then (one (name_at ls) then done))) h).0 in
      let q = and_parts (is_some (symbol_of ls)) (avoids (bad_names none_hidden (only s)) target_taken P) (at (bound_by w.made s) (is_some (symbol_of ls) && avoids (bad_names none_hidden (only s)) target_taken P) here e) in
      record { bound = q.0; spared = q.1 }
    where
      at : (a b : Bool) → (not a || b) ≡ true → a ≡ true → b ≡ true
      at true b g e = g
      at false b g e = absurd (cc e)

  kept_source : (l : Label) (p : Place) → Known w B p P → symbol_of ls ≡ p.scope s → all_nodes (keeps_made w.made) (declares_as l P (name_at ls)) ≡ true → is_kept w P (name_at ls) ≡ true → Source ls P
  kept_source l p known found made h = at (bound_by w.made s) refl h
    where
      at : (b : Bool) → bound_by w.made s ≡ b → (b || (is_among_symbols w.steady (symbol_of ls) && not (binds_name s P))) ≡ true → Source ls P
      at true e h = made_source l made e
      at false e h = let q = and_parts (is_among_symbols w.steady (symbol_of ls)) (not (binds_name s P)) h in steady_source p known found (symbol_of ls) refl q.0 (not-true (binds_name s P) q.1)

-- WHAT IS KNOWN of it where its declarator stands
pub record SourceFacts (w : Whole) (around : List Declared) (ls : Label) (P : Tree) : Type 0 where
  pub bound : declares around (first_text ls.texts) ≡ true
  pub spared : avoids (bad_names none_hidden (only (first_text ls.texts))) target_taken P ≡ true
  pub used : w.in_use (first_text ls.texts) ≡ true
  pub no_cell : is_own_cell (first_text ls.texts) ≡ false

pub not_own : (x : Label) → all_nodes names_no_cell (name_at x) ≡ true → is_own_cell (first_text x.texts) ≡ false
not_own x h = not-true (is_own_cell (first_text x.texts)) (and_parts (not (is_own_cell (first_text x.texts))) true h).0

module _ (w : Whole) (xs : List Text) (D : List Declared) (m l lp ls : Label) (a qs c : Trees) where
  abbrev binds_ : Role
  binds_ = Binds (binding_of (first_text m.texts))

  abbrev pattern_ : Tree
  pattern_ = node ObjectPattern lp (many qs then done)

  abbrev declarator_ : Tree
  declarator_ = declares_as l pattern_ (name_at ls)

  abbrev fields_0 : Fields
  fields_0 = many (joined_trees a (declarator_ before c)) then done

  abbrev fields_1 : Fields
  fields_1 = one pattern_ then (one (name_at ls) then done)

  abbrev SeenHere : Type 0
  SeenHere = Seen w xs D (declaring m (joined_trees a (declarator_ before c)))

  abbrev place_1 : SeenHere → Place
  place_1 seen = place_in seen.place VariableDeclaration m (role_at seen.role VariableDeclaration m fields_0) fields_0 0

  abbrev pub place_2 : SeenHere → Place
  place_2 seen = place_in (place_1 seen) VariableDeclarator l (role_at binds_ VariableDeclarator l fields_1) fields_1 0

  abbrev place_3 : SeenHere → Place
  place_3 seen = place_in (place_1 seen) VariableDeclarator l (role_at binds_ VariableDeclarator l fields_1) fields_1 1

  known_declarator : (seen : SeenHere) → Known w binds_ (place_1 seen) declarator_
  known_declarator seen = (known_joined w binds_ (place_1 seen) a (declarator_ before c) (known_below w seen.role seen.place VariableDeclaration m fields_0 seen.known).0).0

  pub known_pattern : (seen : SeenHere) → Known w binds_ (place_2 seen) pattern_
  known_pattern seen = (known_below w binds_ (place_1 seen) VariableDeclarator l fields_1 (known_declarator seen)).0

  known_value : (seen : SeenHere) → Known w reads (place_3 seen) (name_at ls)
  known_value seen = (known_below w binds_ (place_1 seen) VariableDeclarator l fields_1 (known_declarator seen)).1.0

  pub source_facts : (seen : SeenHere) → is_kept w pattern_ (name_at ls) ≡ true → SourceFacts w seen.around ls pattern_
  source_facts seen kept =
      let of_value = known_value seen in
      let found : symbol_of ls ≡ seen.place.scope (first_text ls.texts) = of_value.resolved.0 in
      let source = kept_source w (first_text m.texts) ls lp qs l (place_2 seen) (known_pattern seen) found (known_declarator seen).sources kept in
      record {
        bound = sym (seen.found (first_text ls.texts)) ∙ (ap is_some (sym found) ∙ source.bound);
        spared = source.spared;
        used = of_value.named.0.0;
        no_cell = not_own ls of_value.cells;
      }
