-- The nodes at which `using` is lowered, and their parts.
use Rattle.std.proofs.Common.{◌≡◌, ◌∙◌, ap, refl, sym}
use Rattle.std.specs.Prelude.{false, true}
use Rattle.es_tree.specs.Tree.{Tree, node, Label, done, ◌then◌, many, one, Trees, ◌before◌}
use Rattle.es_tree.specs.declared.ast_type.AstType.TheVariants.{VariableDeclaration, VariableDeclarator}
use Rattle.es_statements.specs.ProgramArity.{IsVariableDeclaration}
use Rattle.es_using_rows.specs.UsingPlaces.{has_value, is_used}
use Rattle.es_tree.specs.Words.{Text}
use Rattle.es_using_rows.specs.Used.{const_label, plainly, used_declaration, used_declarator, used_declarators}
use Rattle.lower_using.specs.Parts.{BecomesBy}

-- DECLARATIONS

pub declaration-opens : (t : Tree) → is_used t ≡ true → IsVariableDeclaration t
declaration-opens (node VariableDeclaration l (many (d before ds) then done)) h = record { kind = refl; arity = (tt, tt) }
declaration-opens _ h = absurd (cc h)

pub declaration-made : (c : Text) (t : Tree) (l : Label) (ts us : Trees) (made : Tree) → node VariableDeclaration l (many ts then done) ≡ t → made ≡ node VariableDeclaration (const_label l) (many us then done) → BecomesBy c used_declarators ts us → BecomesBy c used_declaration t made
declaration-made c t l ts us made is says h names n e =
    ap (λ u. used_declaration (plainly names) n u) (sym is) ∙ (ap (λ vs. node VariableDeclaration (const_label l) (many vs then done)) (h names n e) ∙ sym says)

-- DECLARATORS without a value stay

pub declarator-stays : (c : Text) (d : Tree) → has_value d ≡ false → BecomesBy c used_declarator d d
declarator-stays c (node VariableDeclarator l (one x then one e then done)) h = absurd (cc h)
declarator-stays c _ h = λ names n e. refl
