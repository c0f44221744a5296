-- A program as it is seen with the marks of its scope table, and others that are wrong: one isn't resolved, and one not single.
use Rattle.std.proofs.Common.{arith, ◌≡◌, ℕ, refl, List, [], ◌∷◌}
use Rattle.std.specs.Prelude.{true, Option, Some, None, codes}
use Rattle.es_tree.specs.Fresh.{is_among}
use Rattle.es_tree.specs.HasForm.{has_form}
use Rattle.es_tree.specs.Names.{names_of}
use Rattle.es_tree.specs.StaticRules.{breaks}
use Rattle.es_tree.specs.Tree.{Tree, node, Label, done, ◌then◌, missing, one, many, statements, empty, ◌before◌}
use Rattle.es_tree.specs.Words.{Text}
use Rattle.es_tree.specs.declared.ast_type.AstType.TheVariants.{Program, BlockStatement, ExpressionStatement, VariableDeclaration, VariableDeclarator, ClassDeclaration, Identifier}
use Rattle.es_tree.specs.declared.table.Sort.TheVariants.{Program as s-Program}
use Rattle.es_semantic.specs.RolesOf.{reads}
use Rattle.es_resolution.specs.Laws.{source}
use Rattle.es_resolution.specs.Named.{Named}
use Rattle.es_resolution.specs.Resolved.{IsResolved, no_name}
use Rattle.es_resolution.specs.Single.{IsSingle, scopes_with}
use Rattle.es_resolution.proofs.Sources.{law_named_proof, law_resolved_proof, law_single_proof}

-- a node's label, with these marks
abbrev said : List (Option Text) → List (Option ℕ) → Label
said texts marks = record { id = 0; start = 0; stop = 0; texts = texts; flags = []; marks = marks }

abbrev name : Text → List (Option ℕ) → Tree
name x marks = node Identifier (said (Some x ∷ []) marks) done

abbrev let_list : Tree → Tree
let_list x = node VariableDeclaration (said (Some (codes "let") ∷ []) []) (many (node VariableDeclarator (said [] []) (one x then missing then done) before empty) then done)

abbrev statement : Tree → Tree
statement e = node ExpressionStatement (said [] []) (one e then done)

-- let b; { let b; b; } class c extends c {} d; with these marks on the names and on the class
abbrev program : List (Option ℕ) → List (Option ℕ) → List (Option ℕ) → List (Option ℕ) → List (Option ℕ) → List (Option ℕ) → List (Option ℕ) → Tree
program outer inner last class around inside free = node Program (said (Some (codes "module") ∷ []) []) (many empty then statements (
    let_list (name (codes "b") outer) before
    node BlockStatement (said [] []) (statements (let_list (name (codes "b") inner) before statement (name (codes "b") last) before empty) then done) before
    node ClassDeclaration (said [] class) (one (name (codes "c") around) then one (name (codes "c") inside) then many empty then done) before
    statement (name (codes "d") free) before empty) then done)

abbrev plain : Tree
plain = program [] [] [] [] [] [] []

abbrev marked : ℕ → ℕ → Tree
marked inner last = program (Some 0 ∷ []) (Some inner ∷ []) (Some last ∷ []) (Some 2 ∷ []) (Some 3 ∷ []) (Some 2 ∷ []) (None ∷ [])

-- the name of the class has two symbols, and inside the class it is the inner one; `d` is unbound
seen-so : source plain ≡ marked 1 1
seen-so = refl

plain-form : has_form s-Program plain ≡ true
plain-form = refl

resolved : IsResolved (marked 1 1)
resolved = law_resolved_proof plain plain-form

single : IsSingle (marked 1 1)
single = law_single_proof plain plain-form

plain-valid : breaks plain ≡ []
plain-valid = refl

-- its names and its four symbols are in use
named : Named (is_among (names_of plain)) 4 reads (marked 1 1)
named = law_named_proof plain (is_among (names_of plain)) 4 plain-form plain-valid (λ x e. e) (omega arith)

-- the `b` of the block isn't the outer one
wrong : IsResolved (marked 1 0) → ⊥
wrong h = absurd (cc h.2.1.0.1.0.2.0.1.0.2.0.0)

-- one symbol for both is bound by two scopes
twice : scopes_with 0 no_name reads (marked 0 0) ≡ 2
twice = refl
