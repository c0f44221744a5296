-- The fields of nodes out of which a pattern moves.
use Rattle.std.proofs.Common.{◌≡◌, ◌∙◌, ◌++◌, ◌∷◌, List, [], ap, arith, get_or, length, refl, suc, sym, subst}
use Rattle.std.specs.Prelude.{true}
use Rattle.es_tree.specs.Arity.{Fits, list, required, statement_list}
use Rattle.es_tree.specs.ArityFacts.{fits_length}
use Rattle.es_tree.specs.Names.{first_text}
use Rattle.es_tree.specs.Words.{Text}
use Rattle.es_tree.specs.Tree.{Tree, node, Label, Fields, done, ◌then◌, Field, missing, one, many, statements, Trees, empty, ◌before◌, kind_of, label_of, trees}
use Rattle.es_tree.specs.Views.{plain_field, plain_fields}
use Rattle.es_tree.specs.declared.ast_type.AstType.TheVariants.{FunctionBody, ObjectTarget, VariableDeclaration, VariableDeclarator}
use Rattle.es_tree.specs.declared.node.Field.{Field as NodeField}
use Rattle.es_statements.specs.FunctionsArity.{IsFunctionBody}
use Rattle.es_statements.specs.ProgramArity.{IsVariableDeclarator}
use Rattle.es_pattern_moves.specs.PatternMoves.{moves_from_arrow, moves_from_catch, moves_from_function, moves_from_head, moves_with_body}
use Rattle.lower_pattern_moves.specs.Parts.{DeclaresAlone, DeclaresBy, declared_alone}

-- THREE FIELDS, by their places

pub three-fields : {xs ys : List NodeField} {f g h : NodeField} → ys ≡ xs → length xs ≡ 3 → f ≡ get_or ys 0 f → g ≡ get_or ys 1 g → h ≡ get_or ys 2 h → xs ≡ f ∷ g ∷ h ∷ []
three-fields {xs} {ys} {f} {g} {h} same count ef eg eh = sym same ∙ by-length ys (ap length same ∙ count) ef eg eh
  where
    by-length : (zs : List NodeField) → length zs ≡ 3 → f ≡ get_or zs 0 f → g ≡ get_or zs 1 g → h ≡ get_or zs 2 h → zs ≡ f ∷ g ∷ h ∷ []
    by-length [] n df dg dh = absurd (omega (arith, n))
    by-length (x ∷ []) n df dg dh = absurd (omega (arith, n))
    by-length (x ∷ y ∷ []) n df dg dh = absurd (omega (arith, n))
    by-length (x ∷ y ∷ z ∷ []) n df dg dh = λ i. sym df i ∷ sym dg i ∷ sym dh i ∷ []
    by-length (x ∷ y ∷ z ∷ w ∷ zs) n df dg dh = absurd (omega (arith, n))

-- CATCH CLAUSES

pub catch-fits : (fs : Fields) → moves_from_catch fs ≡ true → Fits (required ∷ required ∷ []) fs
catch-fits (one p then one b then done) h = (tt, (tt, tt))
catch-fits _ h = absurd (cc h)

-- HEADS OF LOOPS

pub head-fits : (fs : Fields) → moves_from_head fs ≡ true → Fits (required ∷ required ∷ required ∷ []) fs
head-fits (one (node VariableDeclaration l (many (node VariableDeclarator m (one p then missing then done) before empty) then done)) then one e then one b then done) h = (tt, (tt, (tt, tt)))
head-fits (one (node ObjectTarget l gs) then one e then one b then done) h = (tt, (tt, (tt, tt)))
head-fits _ h = absurd (cc h)

pub record LoopShape (fs : Fields) : Type 0 where
  pub head : Tree
  pub source : Tree
  pub body : Tree
  pub fields : fs ≡ (one head then one source then one body then done)
  pub alone : (kind_of head ≡ ObjectTarget → ⊥) → DeclaresAlone head

pub head-shape : (fs : Fields) → moves_from_head fs ≡ true → LoopShape fs
head-shape (one (node VariableDeclaration l (many (node VariableDeclarator m (one p then missing then done) before empty) then done)) then one e then one b then done) h =
    record { head = declared_alone l m p; source = e; body = b; fields = refl; alone = λ other. record { label = l; inner = m; pattern = p; tree = refl } }
head-shape (one (node ObjectTarget l gs) then one e then one b then done) h = record { head = node ObjectTarget l gs; source = e; body = b; fields = refl; alone = λ other. absurd (other refl) }
head-shape _ h = absurd (cc h)

-- FUNCTIONS

pub function-rest : (f : Field) (fs : Fields) → moves_from_function (f then fs) ≡ true → moves_from_arrow fs ≡ true
function-rest f (many ps then one b then done) h = h
function-rest f _ h = absurd (cc h)

pub arrow-fits : (fs : Fields) → moves_from_arrow fs ≡ true → Fits (list ∷ required ∷ []) fs
arrow-fits (many ps then one b then done) h = (tt, (tt, tt))
arrow-fits _ h = absurd (cc h)

pub function-length : (xs : List NodeField) → moves_from_function (plain_fields xs) ≡ true → length xs ≡ 3
function-length [] h = absurd (cc h)
function-length (x ∷ xs) h = ap suc (fits_length (list ∷ required ∷ []) xs (arrow-fits (plain_fields xs) (function-rest (plain_field x) (plain_fields xs) h)))

body-fits : (ps : Trees) (l : Label) (fs : Fields) → moves_with_body ps (node FunctionBody l fs) ≡ true → Fits (list ∷ statement_list ∷ []) fs
body-fits ps l (many ds then statements ts then done) h = (tt, (tt, tt))
body-fits ps l _ h = absurd (cc h)

pub body-opens : (ps : Trees) (b : Tree) → kind_of b ≡ FunctionBody → moves_with_body ps b ≡ true → IsFunctionBody b
body-opens ps (node k l fs) is h = record { kind = is; arity = body-fits ps l fs (subst (λ j. moves_with_body ps (node j l fs) ≡ true) is h) }

-- A DECLARATION of a pattern alone, taken apart

pub declarator-opens : (l : Label) (p : Tree) → IsVariableDeclarator (node VariableDeclarator l (one p then missing then done))
declarator-opens l p = record { kind = refl; arity = (tt, (tt, tt)) }

abbrev first_of : Tree → Trees → Tree
first_of d empty = d
first_of d (t before ts) = t

abbrev rest_of : Trees → Trees
rest_of empty = empty
rest_of (t before ts) = ts

only-one : (ps : List Tree) (d x : Tree) → trees (ps ++ d ∷ []) ≡ (x before empty) → d ≡ x
only-one [] d x e = ap (first_of d) e
only-one (p ∷ []) d x e = let less : (d before empty) ≡ empty = ap rest_of e in absurd (cc less)
only-one (p ∷ q ∷ ps) d x e = let less : (q before trees (ps ++ d ∷ [])) ≡ empty = ap rest_of e in absurd (cc less)

abbrev first_list : Trees → Tree → Trees
first_list ts (node k l (many us then fs)) = us
first_list ts _ = ts

abbrev first_one : Tree → Tree → Tree
first_one t (node k l (one u then fs)) = u
first_one t _ = t

pub alone-declarator : (head : Tree) (l : Label) (items ps : List Tree) (d : Tree) (h : DeclaresAlone head) → node VariableDeclaration l (many (trees items) then done) ≡ head → items ≡ ps ++ d ∷ [] → d ≡ node VariableDeclarator h.inner (one h.pattern then missing then done)
alone-declarator head l items ps d h e put =
    only-one ps d (node VariableDeclarator h.inner (one h.pattern then missing then done)) (sym (ap trees put) ∙ ap (first_list empty) (e ∙ h.tree))

pub alone-opens : (head : Tree) (l : Label) (items ps : List Tree) (d : Tree) → DeclaresAlone head → node VariableDeclaration l (many (trees items) then done) ≡ head → items ≡ ps ++ d ∷ [] → IsVariableDeclarator d
alone-opens head l items ps d h e put = subst IsVariableDeclarator (sym (alone-declarator head l items ps d h e put)) (declarator-opens h.inner h.pattern)

pub declares-by : (head : Tree) (l l' : Label) (items ps : List Tree) (d p : Tree) (f : Field) (kind : Text) → DeclaresAlone head → node VariableDeclaration l (many (trees items) then done) ≡ head → items ≡ ps ++ d ∷ [] → node VariableDeclarator l' (one p then f then done) ≡ d → first_text l.texts ≡ kind → DeclaresBy head kind p
declares-by head l l' items ps d p f kind h e put is says =
    let same : l ≡ h.label = ap label_of (e ∙ h.tree) in
    let bound : p ≡ h.pattern = ap (first_one p) (is ∙ alone-declarator head l items ps d h e put) in
    record {
      label = l;
      inner = h.inner;
      tree = h.tree ∙ (ap (λ m. declared_alone m h.inner h.pattern) (sym same) ∙ ap (λ q. declared_alone l h.inner q) (sym bound));
      word = says;
    }
