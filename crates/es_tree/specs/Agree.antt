-- What the tree form asks of a node beside its single fields.
use Rattle.std.specs.Prelude.{ℕ, suc, List, [], ◌∷◌, Bool, true, false, ◌&&◌, ◌||◌, not, ◌==◌, Option, Some, bytes_eq, codes}
use Rattle.es_tree.specs.Words.{Text}
use Rattle.es_tree.specs.Tree.{Fields, done, ◌then◌, Field, missing, many, Trees, empty, ◌before◌}
use Rattle.es_tree.specs.declared.ast_type.AstType.{AstType}
use Rattle.es_tree.specs.declared.ast_type.AstType.TheVariants.{TemplateLiteral, TryStatement, MetaProperty}

abbrev pub trees_count : Trees → ℕ
trees_count empty = 0
trees_count (t before ts) = suc (trees_count ts)

abbrev pub is_missing : Field → Bool
is_missing missing = true
is_missing _ = false

-- one quasi more than expressions
abbrev pub quasis_fit : Fields → Bool
quasis_fit (many qs then (many es then done)) = trees_count qs == suc (trees_count es)
quasis_fit _ = false

-- a handler or a finalizer stands
abbrev pub is_guarded : Fields → Bool
is_guarded (b then (h then (f then done))) = not (is_missing h && is_missing f)
is_guarded _ = false

-- `new.target` or `import.meta`
abbrev pub is_meta_pair : List (Option Text) → Bool
is_meta_pair (Some m ∷ (Some p ∷ [])) = (bytes_eq m (codes "new") && bytes_eq p (codes "target")) || (bytes_eq m (codes "import") && bytes_eq p (codes "meta"))
is_meta_pair _ = false

abbrev pub fields_agree : AstType → List (Option Text) → Fields → Bool
fields_agree TemplateLiteral ts fs = quasis_fit fs
fields_agree TryStatement ts fs = is_guarded fs
fields_agree MetaProperty ts fs = is_meta_pair ts
fields_agree _ ts fs = true
