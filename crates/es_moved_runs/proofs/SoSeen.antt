-- Ids and marks mean nothing to the class of programs, nor to which patterns move.
use Rattle.std.proofs.Common.{◌≡◌, refl, sym, ap, ◌∙◌}
use Rattle.std.specs.Prelude.{Bool, true, false, not, ◌&&◌, ◌||◌, codes}
use Rattle.std.proofs.lemmas.Bool.{and_from, and_parts}
use Rattle.es_tree.specs.Bare.{bare, bare_fields, bare_label}
use Rattle.es_tree.specs.Fresh.{is_among}
use Rattle.es_tree.specs.HasForm.{has_form}
use Rattle.es_tree.specs.Names.{first_text}
use Rattle.es_tree.specs.Tree.{Tree, node, Label, Fields, done, ◌then◌, missing, one, many, statements, empty, ◌before◌}
use Rattle.es_tree.specs.Walks.{all_nodes}
use Rattle.es_tree.specs.Words.{Text}
use Rattle.es_tree.specs.declared.ast_type.AstType.{AstType}
use Rattle.es_tree.specs.declared.ast_type.AstType.TheVariants.{BlockStatement, CatchClause, ForInStatement, ForOfStatement, Identifier, ObjectTarget, VariableDeclaration, VariableDeclarator}
use Rattle.es_tree.specs.declared.table.Sort.TheVariants.{Program as s-Program}
use Rattle.es_tree.proofs.BareForm.{has_form-bare}
use Rattle.es_runs.proofs.BareTrees.{names-bare}
use Rattle.es_reached.proofs.Results.{rules-bare}
use Rattle.es_rest_shapes.specs.RestShapes.{is_plain_pattern}
use Rattle.es_rest_shapes.proofs.BareRests.{bears-bare, plain-bare}
use Rattle.es_statement_runs.specs.Helpers.Supply.{by_global}
use Rattle.es_statement_runs.specs.Names.{names_of_all}
use Rattle.es_statement_runs.specs.Programs.{IsStatementProgram, is_statement_node, names_no_cell, uses_no_helper}
use Rattle.es_statement_steps.proofs.BareScopes.{own-names-bare}
use Rattle.es_statement_steps.proofs.BareTests.{fields-bare}
use Rattle.es_statement_steps.proofs.ReachedRuns.{class-bare}
use Rattle.es_moved_runs.specs.Laws.{binds, binds_none_asked, head_moves_so, is_block, is_let_or_const, loop_moves_so, moves_so}

same_bools : (a b : Bool) → (a ≡ true → b ≡ true) → (b ≡ true → a ≡ true) → a ≡ b
same_bools true b f g = sym (f refl)
same_bools false true f g = g refl
same_bools false false f g = refl

not_twice : (b : Bool) → not (not b) ≡ b
not_twice true = refl
not_twice false = refl

same_by_not : (a b : Bool) → not a ≡ not b → a ≡ b
same_by_not a b e = sym (not_twice a) ∙ ap not e ∙ not_twice b

-- WHICH PATTERNS MOVE

binds_bare : (p : Tree) (x : Text) → binds (bare p) x ≡ binds p x
binds_bare p x = ap (λ ds. is_among (names_of_all ds) x) (own-names-bare CatchClause (one p then done))

asked_bare : (p : Tree) → binds_none_asked (bare p) ≡ binds_none_asked p
asked_bare p = λ i. not (binds_bare p (codes "Math") i) && (not (binds_bare p (codes "babelHelpers") i) && not (binds_bare p (codes "require") i))

block_bare : (b : Tree) → is_block (bare b) ≡ is_block b
block_bare b = same_bools (is_block (bare b)) (is_block b) (from b) (to b)
  where
    to : (b : Tree) → is_block b ≡ true → is_block (bare b) ≡ true
    to (node BlockStatement l (statements ts then done)) h = refl
    to _ h = absurd (cc h)

    from : (b : Tree) → is_block (bare b) ≡ true → is_block b ≡ true
    from (node BlockStatement l (statements ts then done)) h = refl
    from _ h = absurd (cc h)

head_bare : (block : Bool) (t : Tree) → head_moves_so block (bare t) ≡ head_moves_so block t
head_bare block t = same_by_not (head_moves_so block (bare t)) (head_moves_so block t) (same_bools (not (head_moves_so block (bare t))) (not (head_moves_so block t)) (from block t) (to block t))
  where
    same : (block : Bool) (l : Label) (p : Tree) → (not (is_plain_pattern (bare p)) || (is_let_or_const (first_text l.texts) && (block && binds_none_asked (bare p)))) ≡ (not (is_plain_pattern p) || (is_let_or_const (first_text l.texts) && (block && binds_none_asked p)))
    same block l p = λ i. not (plain-bare p i) || (is_let_or_const (first_text l.texts) && (block && asked_bare p i))

    to : (block : Bool) (t : Tree) → not (head_moves_so block t) ≡ true → not (head_moves_so block (bare t)) ≡ true
    to block (node VariableDeclaration l (many (node VariableDeclarator j (one p then (missing then done)) before empty) then done)) h = ap not (same block l p) ∙ h
    to block (node ObjectTarget l gs) h = ap (λ b. not (not b)) (bears-bare (node ObjectTarget l gs)) ∙ h
    to block _ h = absurd (cc h)

    from : (block : Bool) (t : Tree) → not (head_moves_so block (bare t)) ≡ true → not (head_moves_so block t) ≡ true
    from block (node VariableDeclaration l (many (node VariableDeclarator j (one p then (missing then done)) before empty) then done)) h = ap not (sym (same block l p)) ∙ h
    from block (node ObjectTarget l gs) h = ap (λ b. not (not b)) (sym (bears-bare (node ObjectTarget l gs))) ∙ h
    from block _ h = absurd (cc h)

loop_bare : (fs : Fields) → loop_moves_so (bare_fields fs) ≡ loop_moves_so fs
loop_bare fs = same_by_not (loop_moves_so (bare_fields fs)) (loop_moves_so fs) (same_bools (not (loop_moves_so (bare_fields fs))) (not (loop_moves_so fs)) (from fs) (to fs))
  where
    same : (t b : Tree) → head_moves_so (is_block (bare b)) (bare t) ≡ head_moves_so (is_block b) t
    same t b = head_bare (is_block (bare b)) t ∙ ap (λ c. head_moves_so c t) (block_bare b)

    to : (fs : Fields) → not (loop_moves_so fs) ≡ true → not (loop_moves_so (bare_fields fs)) ≡ true
    to (one t then (one e then (one b then done))) h = ap not (same t b) ∙ h
    to _ h = absurd (cc h)

    from : (fs : Fields) → not (loop_moves_so (bare_fields fs)) ≡ true → not (loop_moves_so fs) ≡ true
    from (one t then (one e then (one b then done))) h = ap not (sym (same t b)) ∙ h
    from _ h = absurd (cc h)

so_bare : (k : AstType) (l : Label) (fs : Fields) → moves_so k (bare_label l) (bare_fields fs) ≡ moves_so k l fs
so_bare ForInStatement l fs = loop_bare fs
so_bare ForOfStatement l fs = loop_bare fs
so_bare _ l fs = refl

cells_bare : (k : AstType) (l : Label) (fs : Fields) → names_no_cell k (bare_label l) (bare_fields fs) ≡ names_no_cell k l fs
cells_bare Identifier l fs = refl
cells_bare _ l fs = refl

nodes_seen : (c : AstType → Label → Fields → Bool) → ((k : AstType) (l : Label) (fs : Fields) → c k (bare_label l) (bare_fields fs) ≡ c k l fs) → (p q : Tree) → bare p ≡ bare q → all_nodes c p ≡ true → all_nodes c q ≡ true
nodes_seen c label p q same h =
    let bare_of = fields-bare c label in
    let both : (all_nodes c q && true) ≡ (all_nodes c p && true) = sym (bare_of (one q then done)) ∙ ap (λ (z : Tree). all_nodes c z && true) (sym same) ∙ bare_of (one p then done) in
    (and_parts (all_nodes c q) true (both ∙ and_from (all_nodes c p) true h refl)).0

pub so_seen : (p q : Tree) → bare p ≡ bare q → all_nodes moves_so p ≡ true → all_nodes moves_so q ≡ true
so_seen = nodes_seen moves_so so_bare

-- THE CLASS

pub class_seen : (p q : Tree) → bare p ≡ bare q → IsStatementProgram p → IsStatementProgram q
class_seen p q same class = record {
  form = sym (has_form-bare s-Program q) ∙ ap (has_form s-Program) (sym same) ∙ has_form-bare s-Program p ∙ class.form;
  rules = rules-bare p q same class.rules;
  without_functions = sym (class-bare q) ∙ ap (λ t. all_nodes is_statement_node t) (sym same) ∙ class-bare p ∙ class.without_functions;
  names = nodes_seen names_no_cell cells_bare p q same class.names;
}

pub helpers_seen : (p q : Tree) → bare p ≡ bare q → uses_no_helper by_global p ≡ true → uses_no_helper by_global q ≡ true
helpers_seen p q same h = ap (λ ns. not (is_among ns (codes "babelHelpers"))) (sym (names-bare true q)) ∙ ap (uses_no_helper by_global) (sym same) ∙ ap (λ ns. not (is_among ns (codes "babelHelpers"))) (names-bare true p) ∙ h
