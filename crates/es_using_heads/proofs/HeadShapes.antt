-- What moves is a `for`-`of` whose head declares a name by `using`, and whose right side doesn't hold the name.
use Rattle.std.proofs.Common.{◌≡◌, [], ◌∷◌}
use Rattle.std.specs.Prelude.{true, false, ◌&&◌, not, Some, codes}
use Rattle.std.proofs.lemmas.Bool.{and_parts, not-true}
use Rattle.es_tree.specs.Tree.{Tree, node, Label, Fields, done, ◌then◌, missing, one, many, empty, ◌before◌}
use Rattle.es_tree.specs.declared.ast_type.AstType.TheVariants.{VariableDeclaration, VariableDeclarator}
use Rattle.es_steps.specs.LoopHeads.{head_fields}
use Rattle.es_rest_shapes.specs.RestShapes.{is_name}
use Rattle.es_pattern_moves.specs.PatternMoves.{meets}
use Rattle.es_using_rows.specs.UsingPlaces.{is_using_word}
use Rattle.es_using_rows.proofs.UsingSites.{word-using}
use Rattle.es_using_heads.specs.Heads.{moves_from_head}

pub data IsHead : Fields → Type 0 where
  a_head : (l k : Label) (x e b : Tree) → moves_from_head (head_fields l k x e b) ≡ true → IsHead (head_fields l k x e b)

pub head-shape : (fs : Fields) → moves_from_head fs ≡ true → IsHead fs
head-shape (one (node VariableDeclaration l (many (node VariableDeclarator k (one x then missing then done) before empty) then done)) then one e then one b then done) h = a_head l k x e b h
head-shape _ h = absurd (cc h)

-- what the test says
pub record HeadTests (l : Label) (x e : Tree) : Type 0 where
  pub word : l.texts ≡ Some (codes "using") ∷ []
  pub name : is_name x ≡ true
  pub apart : meets x e ≡ false

pub head-tests : (l k : Label) (x e b : Tree) → moves_from_head (head_fields l k x e b) ≡ true → HeadTests l x e
head-tests l k x e b h =
    let first = and_parts (is_using_word l.texts && is_name x) (not (meets x e)) h in
    let second = and_parts (is_using_word l.texts) (is_name x) first.0 in
    record { word = word-using l.texts second.0; name = second.1; apart = not-true (meets x e) first.1 }
