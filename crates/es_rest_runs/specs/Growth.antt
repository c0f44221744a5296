-- Declarations that declare fresh names more.
use Rattle.std.specs.Prelude.{◌≡◌, Bool, true, false, List, codes}
use Rattle.es_tree.specs.Names.{first_text}
use Rattle.es_tree.specs.Scopes.{declares}
use Rattle.es_tree.specs.StaticRules.{is_lone_declarator}
use Rattle.es_tree.specs.Tree.{Tree, node, Label, done, ◌then◌, many, Trees}
use Rattle.es_tree.specs.Words.{Text}
use Rattle.es_tree.specs.declared.ast_type.AstType.TheVariants.{VariableDeclaration}
use Rattle.es_statement_runs.specs.Laws.{among_names}
use Rattle.es_statement_runs.specs.Names.{declarators_names, is_word}
use Rattle.es_split_runs.specs.Growing.{NamesMore}

-- A declaration, by `var` or not, becomes one of the same word that declares these names more; it is none of a head of for-in and for-of (14.7.5).
pub data Grows (by_var : Bool) (xs : List Text) : Tree → Tree → Type 0 where
  grows : (m : Label) (ds es : Trees) → is_word (codes "var") (first_text m.texts) ≡ by_var → is_lone_declarator ds ≡ false →
      ((w : Text) → NamesMore (among_names xs) (declarators_names w ds) (declarators_names w es)) → ((w x : Text) → among_names xs x ≡ true → declares (declarators_names w es) x ≡ true) →
      Grows by_var xs (node VariableDeclaration m (many ds then done)) (node VariableDeclaration m (many es then done))
