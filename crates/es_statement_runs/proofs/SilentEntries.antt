-- What holds for helpers and for lists of texts holds for all that names of a program's list stand for.
use Rattle.std.proofs.Common.{refl, List, [], ◌∷◌, ◌++◌}
use Rattle.std.specs.Prelude.{Bool, true, false, ◌&&◌, Option, Some, None, if◌then◌else◌, codes}
use Rattle.es_tree.specs.Words.{Text}
use Rattle.es_tree.specs.Fresh.{is_among}
use Rattle.es_tree.specs.Names.{first_text}
use Rattle.es_tree.specs.Scopes.{own_text}
use Rattle.es_tree.specs.Tree.{Tree, node, Fields, done, ◌then◌, one, many, Trees, empty, ◌before◌}
use Rattle.es_tree.specs.declared.ast_type.AstType.TheVariants.{VariableDeclaration, VariableDeclarator, ImportDeclaration, ImportDefaultSpecifier, Identifier, StringLiteral, ArrayExpression, CallExpression}
use Rattle.es_runs.specs.Machine.{Values}
use Rattle.es_runs.specs.Core.{Silent}
use Rattle.es_runs.specs.Core.Silent.{helper_name, keys_name}
use Rattle.es_runs.proofs.Lacking.{AllLack}
use Rattle.es_statement_runs.specs.Names.{is_word, names_of_all, declared_at_top}
use Rattle.es_statement_runs.specs.Helpers.{Supply, named_helper, imported_helper, imported_helpers, helper_in, is_settled, if_settled, required_helper, declarators_helpers, required_helpers, program_list, helper_names, texts_of, with_text, constant_where, constant_by, constants_by, constants_in, binds_constant, silent_names}
use Rattle.es_statement_runs.specs.Helpers.Supply.{no_helpers, by_global, by_import, by_require, spread_by_global}

abbrev TextsLack : Option Values → Type 0
TextsLack None = Unit {0}
TextsLack (Some vs) = AllLack vs

with_lacks : (t : Text) (o : Option Values) → TextsLack o → TextsLack (with_text t o)
with_lacks t None h = tt
with_lacks t (Some vs) h = h

texts_lack : (fs : Fields) → TextsLack (texts_of fs)
texts_lack done = refl
texts_lack (one (node StringLiteral l gs) then fs) = with_lacks (first_text l.texts) (texts_of fs) (texts_lack fs)
texts_lack (f then fs) = tt

module _ (P : Silent → Type 0) where
  pub data Entries : List (Text × Silent) → Type 0 where
    no_entry : Entries []
    entry_and : {x : Text} {s : Silent} {es : List (Text × Silent)} → P s → Entries es → Entries ((x, s) ∷ es)

  pub both_entries : {es ds : List (Text × Silent)} → Entries es → Entries ds → Entries (es ++ ds)
  both_entries no_entry g = g
  both_entries (entry_and p h) g = entry_and p (both_entries h g)

  choice_entries : (b : Bool) {es ds : List (Text × Silent)} → Entries es → Entries ds → Entries (if b then es else ds)
  choice_entries true h g = h
  choice_entries false h g = g

  -- CONSTANT LISTS OF KEYS

  module _ (keys : (vs : Values) → AllLack vs → P (keys_name vs)) where
    where_entries : (x : Text) (b : Bool) (o : Option Values) → TextsLack o → Entries (constant_where x b o)
    where_entries x true (Some vs) h = entry_and (keys vs h) no_entry
    where_entries x true None h = no_entry
    where_entries x false o h = no_entry

    module _ (u : Supply) (hs : List (Text × Silent)) (p : Tree) where
      constant_entries : (d : Tree) → Entries (constant_by u hs p d)
      constant_entries (node VariableDeclarator l (one (node Identifier k gs) then (one (node ArrayExpression m es) then done))) = where_entries _ _ (texts_of es) (texts_lack es)
      constant_entries _ = no_entry

      constants_entries : (ds : Trees) → Entries (constants_by u hs p ds)
      constants_entries empty = no_entry
      constants_entries (d before ds) = both_entries (constant_entries d) (constants_entries ds)

      pub list_entries : (ts : Trees) → Entries (constants_in u hs p ts)
      list_entries empty = no_entry
      list_entries (node VariableDeclaration l (many ds then fs) before ts) = both_entries (choice_entries (binds_constant (first_text l.texts)) (constants_entries ds) no_entry) (list_entries ts)
      list_entries (t before ts) = list_entries ts

  -- HELPERS

  module _ (helpers : (h : Text) → P (helper_name h)) where
    named_entries : (x : Text) (o : Option Text) → Entries (named_helper x o)
    named_entries x None = no_entry
    named_entries x (Some h) = entry_and (helpers h) no_entry

    imported_entries : (m : Text) (t : Tree) → Entries (imported_helper m t)
    imported_entries m (node ImportDeclaration l (many (node ImportDefaultSpecifier k (one x then done) before empty) then (one source then fs))) = named_entries (own_text x) (helper_in m (own_text source))
    imported_entries m _ = no_entry

    imports_entries : (m : Text) (ts : Trees) → Entries (imported_helpers m ts)
    imports_entries m empty = no_entry
    imports_entries m (t before ts) = both_entries (imported_entries m t) (imports_entries m ts)

    settled_entries : (b : Bool) {es : List (Text × Silent)} → Entries es → Entries (if_settled b es)
    settled_entries true h = h
    settled_entries false h = no_entry

    module _ (m : Text) (p : Tree) where
      required_entries : (t : Tree) → Entries (required_helper m p t)
      required_entries (node VariableDeclarator l (one x then (one (node CallExpression c (one (node Identifier j gs) then (many (node StringLiteral i hs before empty) then done))) then done))) =
          settled_entries (is_word (codes "require") (first_text j.texts) && is_settled (own_text x) p) (named_entries (own_text x) (helper_in m (first_text i.texts)))
      required_entries _ = no_entry

      declarators_entries : (ds : Trees) → Entries (declarators_helpers m p ds)
      declarators_entries empty = no_entry
      declarators_entries (d before ds) = both_entries (required_entries d) (declarators_entries ds)

      requires_entries : (ts : Trees) → Entries (required_helpers m p ts)
      requires_entries empty = no_entry
      requires_entries (node VariableDeclaration l (many ds then fs) before ts) = both_entries (declarators_entries ds) (requires_entries ts)
      requires_entries (t before ts) = requires_entries ts

    helper_entries : (u : Supply) (p : Tree) → Entries (helper_names u p)
    helper_entries no_helpers p = no_entry
    helper_entries spread_by_global p = no_entry
    helper_entries by_global p = no_entry
    helper_entries (by_import m) p = imports_entries m (program_list p)
    helper_entries (by_require m) p = choice_entries (is_among (names_of_all (declared_at_top p)) (codes "require")) no_entry (requires_entries m p (program_list p))

    pub silent_entries : ((vs : Values) → AllLack vs → P (keys_name vs)) → (u : Supply) (p : Tree) → Entries (silent_names u p)
    silent_entries keys no_helpers p = no_entry
    silent_entries keys spread_by_global p = no_entry
    silent_entries keys by_global p = list_entries keys by_global [] p (program_list p)
    silent_entries keys (by_import m) p = both_entries (helper_entries (by_import m) p) (list_entries keys (by_import m) (helper_names (by_import m) p) p (program_list p))
    silent_entries keys (by_require m) p = both_entries (helper_entries (by_require m) p) (list_entries keys (by_require m) (helper_names (by_require m) p) p (program_list p))
