-- A name that is used without a question stands in the program and is declared at its top, where a program gets its helpers by the object of all helpers
-- or not at all: so no new name is one, nor is that of the object in a program that uses no helper itself.
use Rattle.std.proofs.Common.{◌≡◌, ℕ, zero, suc, refl, sym, ap, ◌∙◌, List, [], ◌∷◌, ◌++◌, arith}
use Rattle.std.proofs.lemmas.Bool.{false≢true, ne_eqb}
use Rattle.std.specs.Prelude.{Bool, true, false, ◌||◌, ◌+◌, Option, Some, None, is_some, bytes_eq, if◌then◌else◌}
use Rattle.es_tree.specs.Fresh.{is_among}
use Rattle.es_tree.specs.Names.{first_text, names_of}
use Rattle.es_tree.specs.Scopes.{Declared, declares}
use Rattle.es_tree.specs.Tree.{Tree, node, done, ◌then◌, one, many, Trees, empty, ◌before◌}
use Rattle.es_tree.specs.Words.{Text}
use Rattle.es_tree.specs.declared.ast_type.AstType.TheVariants.{ArrayExpression, Identifier, VariableDeclaration, VariableDeclarator}
use Rattle.es_runs.specs.Core.{Silent}
use Rattle.es_runs.specs.Core.Silent.{keys_name}
use Rattle.es_runs.specs.Machine.{Values}
use Rattle.es_resolution.proofs.Basics.{bytes_eq-equal}
use Rattle.es_statement_runs.specs.Helpers.{Supply, binds_constant, constant_by, constant_where, constants_by, constants_in, entry, key_places, occurrences, one_where, only_excludes, texts_of}
use Rattle.es_statement_runs.specs.Laws.{is_silent}
use Rattle.es_statement_runs.specs.Names.{binding_word, declarator_bound, declarators_names, declared_as, top_in, top_names}
use Rattle.es_statement_steps.proofs.DeclaredNames.{declares_append}

-- a name that stands nowhere in a list of names stands there no time
none_occur : (x : Text) (ys : List Text) → is_among ys x ≡ false → occurrences x ys ≡ 0
none_occur x [] h = refl
none_occur x (y ∷ ys) h = at (bytes_eq y x) refl h (none_occur x ys)
  where
    at : (b : Bool) → bytes_eq y x ≡ b → (b || is_among ys x) ≡ false → (is_among ys x ≡ false → occurrences x ys ≡ 0) → one_where (bytes_eq y x) + occurrences x ys ≡ 0
    at true e g rest = absurd (cc g)
    at false e g rest = let z : one_where (bytes_eq y x) ≡ 0 = ap one_where e in let r : occurrences x ys ≡ 0 = rest g in omega arith

not_excluded : (n : ℕ) → only_excludes n 0 ≡ false
not_excluded zero = refl
not_excluded (suc n) = ne_eqb 0 (suc (suc n)) (λ e. omega arith)

module _ (x : Text) where
  -- x is no name of these entries
  abbrev Lacks : List (Text × Silent) → Type 0
  Lacks es = is_silent es x ≡ false

  lacks_append : (es ds : List (Text × Silent)) → Lacks es → Lacks ds → Lacks (es ++ ds)
  lacks_append [] ds h g = g
  lacks_append (e ∷ es) ds h g = at (bytes_eq e.0 x) h (λ k. lacks_append es ds k g)
    where
      at : (b : Bool) → is_some (if b then Some e.1 else entry es x) ≡ false → (Lacks es → Lacks (es ++ ds)) → is_some (if b then Some e.1 else entry (es ++ ds) x) ≡ false
      at true k rest = k
      at false k rest = rest k

  module _ (u : Supply) (hs : List (Text × Silent)) (p : Tree) (away : is_among (names_of p) x ≡ false) where
    lacks_where : (y : Text) (b : Bool) (o : Option Values) → only_excludes (key_places u hs y p) (occurrences y (names_of p)) ≡ b → Lacks (constant_where y b o)
    lacks_where y true (Some vs) e = at (bytes_eq y x) refl
      where
        at : (c : Bool) → bytes_eq y x ≡ c → is_some (if c then Some (keys_name vs) else None) ≡ false
        at true g =
            let same : y ≡ x = bytes_eq-equal y x g in
            let no : occurrences y (names_of p) ≡ 0 = ap (λ z. occurrences z (names_of p)) same ∙ none_occur x (names_of p) away in
            absurd (false≢true (sym (not_excluded (key_places u hs y p)) ∙ sym (ap (only_excludes (key_places u hs y p)) no) ∙ e))
        at false g = refl
    lacks_where y true None e = refl
    lacks_where y false (Some vs) e = refl
    lacks_where y false None e = refl

    lacks_by : (d : Tree) → Lacks (constant_by u hs p d)
    lacks_by (node VariableDeclarator l (one (node Identifier k gs) then (one (node ArrayExpression m es) then done))) =
        lacks_where (first_text k.texts) (only_excludes (key_places u hs (first_text k.texts) p) (occurrences (first_text k.texts) (names_of p))) (texts_of es) refl
    lacks_by _ = refl

    lacks_all : (ds : Trees) → Lacks (constants_by u hs p ds)
    lacks_all empty = refl
    lacks_all (d before ds) = lacks_append (constant_by u hs p d) (constants_by u hs p ds) (lacks_by d) (lacks_all ds)

    lacks_if : (b : Bool) (es : List (Text × Silent)) → Lacks es → Lacks (if b then es else [])
    lacks_if true es h = h
    lacks_if false es h = refl

-- SUCH A NAME IS DECLARED at the top of the program

silent_append : (x : Text) (es ds : List (Text × Silent)) → is_silent (es ++ ds) x ≡ (is_silent es x || is_silent ds x)
silent_append x [] ds = refl
silent_append x (e ∷ es) ds = at (bytes_eq e.0 x) (silent_append x es ds)
  where
    at : (b : Bool) → is_silent (es ++ ds) x ≡ (is_silent es x || is_silent ds x) → is_some (if b then Some e.1 else entry (es ++ ds) x) ≡ (is_some (if b then Some e.1 else entry es x) || is_silent ds x)
    at true h = refl
    at false h = h

module _ (x : Text) where
  -- these entries are declared by these
  abbrev Covers : List (Text × Silent) → List Declared → Type 0
  Covers es ds = is_silent es x ≡ true → declares ds x ≡ true

  covers_append : (es hs : List (Text × Silent)) (ds cs : List Declared) → Covers es ds → Covers hs cs → Covers (es ++ hs) (ds ++ cs)
  covers_append es hs ds cs f g e = declares_append x ds cs ∙ at (is_silent es x) (declares ds x) (declares cs x) (sym (silent_append x es hs) ∙ e) f g
    where
      at : (a b c : Bool) → (a || is_silent hs x) ≡ true → (a ≡ true → b ≡ true) → (is_silent hs x ≡ true → c ≡ true) → (b || c) ≡ true
      at true b c h k m = ap (λ d. d || c) (k refl)
      at false true c h k m = refl
      at false false c h k m = m h

  nothing_covers : (ds : List Declared) → Covers [] ds
  nothing_covers ds e = absurd (cc e)

  module _ (u : Supply) (hs : List (Text × Silent)) (p : Tree) where
    covers_where : (y : Text) (b : Bool) (o : Option Values) (ds : List Declared) → (bytes_eq y x ≡ true → declares ds x ≡ true) → Covers (constant_where y b o) ds
    covers_where y true (Some vs) ds h e = at (bytes_eq y x) h e
      where
        at : (c : Bool) → (c ≡ true → declares ds x ≡ true) → is_some (if c then Some (keys_name vs) else None) ≡ true → declares ds x ≡ true
        at true k g = k refl
        at false k g = absurd (cc g)
    covers_where y true None ds h e = nothing_covers ds e
    covers_where y false (Some vs) ds h e = nothing_covers ds e
    covers_where y false None ds h e = nothing_covers ds e

    covers_by : (word : Text) (d : Tree) → Covers (constant_by u hs p d) (declared_as word (declarator_bound d))
    covers_by word (node VariableDeclarator l (one (node Identifier k gs) then (one (node ArrayExpression m es) then done))) e =
        covers_where (first_text k.texts) (only_excludes (key_places u hs (first_text k.texts) p) (occurrences (first_text k.texts) (names_of p))) (texts_of es) (declared_as word (node Identifier k gs ∷ [])) (λ d. ap (λ b. b || false) d) e
    covers_by word d e = absurd (cc e)

    covers_all : (word : Text) (ds : Trees) → Covers (constants_by u hs p ds) (declarators_names word ds)
    covers_all word empty e = absurd (cc e)
    covers_all word (d before ds) e = covers_append (constant_by u hs p d) (constants_by u hs p ds) (declared_as word (declarator_bound d)) (declarators_names word ds) (covers_by word d) (covers_all word ds) e

    covers_if : (b : Bool) (es : List (Text × Silent)) (ds : List Declared) → Covers es ds → Covers (if b then es else []) ds
    covers_if true es ds h = h
    covers_if false es ds h = nothing_covers ds

    covers_list : (ts : Trees) → Covers (constants_in u hs p ts) (top_in ts)
    covers_list empty e = absurd (cc e)
    covers_list (node VariableDeclaration l (many ds then fs) before ts) e =
        let word = binding_word (first_text l.texts) in
        covers_append (if binds_constant (first_text l.texts) then constants_by u hs p ds else []) (constants_in u hs p ts) (declarators_names word ds) (top_in ts)
        (covers_if (binds_constant (first_text l.texts)) (constants_by u hs p ds) (declarators_names word ds) (covers_all word ds)) (covers_list ts) e
    covers_list (t before ts) e = covers_append [] (constants_in u hs p ts) (top_names t) (top_in ts) (nothing_covers (top_names t)) (covers_list ts) e
