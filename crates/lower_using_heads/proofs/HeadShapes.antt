-- The fields of a loop out of whose head `using` moves.
use Rattle.std.proofs.Common.{◌≡◌, ◌∙◌, ◌++◌, ◌∷◌, List, [], ap, arith, get_or, length, refl, subst, sym}
use Rattle.std.specs.Prelude.{true}
use Rattle.es_tree.specs.Arity.{Fits, required}
use Rattle.es_tree.specs.Tree.{Tree, node, Label, Fields, done, ◌then◌, missing, one, many, Trees, empty, ◌before◌, trees}
use Rattle.es_tree.specs.declared.ast_type.AstType.{AstType}
use Rattle.es_tree.specs.declared.ast_type.AstType.TheVariants.{ForOfStatement, VariableDeclaration, VariableDeclarator}
use Rattle.es_tree.specs.declared.node.Field.{Field as NodeField}
use Rattle.es_statements.specs.ProgramArity.{IsVariableDeclarator}
use Rattle.es_using_heads.specs.Heads.{moves_from_head, moves_using}
use Rattle.lower_using_heads.specs.Parts.{DeclaresName}

pub loop-moves : (k : AstType) (l : Label) (fs : Fields) → moves_using k l fs ≡ true → moves_from_head fs ≡ true
loop-moves ForOfStatement l fs h = h
loop-moves _ l fs h = absurd (cc h)

-- THREE FIELDS, by their places

pub three-fields : {xs ys : List NodeField} {f g h : NodeField} → ys ≡ xs → length xs ≡ 3 → f ≡ get_or ys 0 f → g ≡ get_or ys 1 g → h ≡ get_or ys 2 h → xs ≡ f ∷ g ∷ h ∷ []
three-fields {xs} {ys} {f} {g} {h} same count ef eg eh = sym same ∙ by-length ys (ap length same ∙ count) ef eg eh
  where
    by-length : (zs : List NodeField) → length zs ≡ 3 → f ≡ get_or zs 0 f → g ≡ get_or zs 1 g → h ≡ get_or zs 2 h → zs ≡ f ∷ g ∷ h ∷ []
    by-length [] n df dg dh = absurd (omega (arith, n))
    by-length (x ∷ []) n df dg dh = absurd (omega (arith, n))
    by-length (x ∷ y ∷ []) n df dg dh = absurd (omega (arith, n))
    by-length (x ∷ y ∷ z ∷ []) n df dg dh = λ i. sym df i ∷ sym dg i ∷ sym dh i ∷ []
    by-length (x ∷ y ∷ z ∷ w ∷ zs) n df dg dh = absurd (omega (arith, n))

-- THE SHAPE

abbrev pub declaring : Label → Tree → Tree
declaring l d = node VariableDeclaration l (many (d before empty) then done)

abbrev pub declarator : Label → Tree → Tree
declarator k x = node VariableDeclarator k (one x then missing then done)

abbrev pub loop : Tree → Tree → Tree → Fields
loop h e b = one h then one e then one b then done

pub record LoopShape (fs : Fields) : Type 0 where
  pub label : Label
  pub inner : Label
  pub name : Tree
  pub source : Tree
  pub body : Tree
  pub tree : fs ≡ loop (declaring label (declarator inner name)) source body

pub loop-shape : (fs : Fields) → moves_from_head fs ≡ true → LoopShape fs
loop-shape (one (node VariableDeclaration l (many (node VariableDeclarator k (one x then missing then done) before empty) then done)) then one e then one b then done) h = record { label = l; inner = k; name = x; source = e; body = b; tree = refl }
loop-shape _ h = absurd (cc h)

pub loop-fits : (fs : Fields) → moves_from_head fs ≡ true → Fits (required ∷ required ∷ required ∷ []) fs
loop-fits fs h = subst (Fits (required ∷ required ∷ required ∷ [])) (sym (loop-shape fs h).tree) (tt, (tt, (tt, tt)))

-- WHAT IS OPENED

pub declarator-opens : (t : Tree) → DeclaresName t → IsVariableDeclarator t
declarator-opens t h = subst IsVariableDeclarator (sym h.tree) (record { kind = refl; arity = (tt, (tt, tt)) })

abbrev first_of : Tree → Trees → Tree
first_of d empty = d
first_of d (t before ts) = t

abbrev rest_of : Trees → Trees
rest_of empty = empty
rest_of (t before ts) = ts

pub only-one : (ps : List Tree) (d x : Tree) → trees (ps ++ d ∷ []) ≡ (x before empty) → d ≡ x
only-one [] d x e = ap (first_of d) e
only-one (p ∷ []) d x e = let less : (d before empty) ≡ empty = ap rest_of e in absurd (cc less)
only-one (p ∷ q ∷ ps) d x e = let less : (q before trees (ps ++ d ∷ [])) ≡ empty = ap rest_of e in absurd (cc less)
