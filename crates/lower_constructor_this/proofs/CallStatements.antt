-- Calls of `super` in what was gone through: those that are statements alone are left.
use Rattle.std.proofs.Common.{◌≡◌, Bool, false, refl, true}
use Rattle.std.specs.Prelude.{◌&&◌, if◌then◌else◌}
use Rattle.std.proofs.lemmas.Bool.{and_parts}
use Rattle.es_tree.specs.HasForm.{same_type}
use Rattle.es_tree.specs.Tree.{Tree, node, Label, Fields, done, ◌then◌, missing, one, many, statements, kind_of}
use Rattle.es_tree.specs.declared.ast_type.AstType.{AstType}
use Rattle.es_tree.specs.declared.ast_type.AstType.TheVariants.{CallExpression, ChainExpression, ExpressionStatement, Super}
use Rattle.es_set_this.specs.ConstructorThis.{after_super, after_super_in, in_arguments, is_left, is_list, settled, then_set}
use Rattle.es_super_calls.specs.SuperCalls.{calls_it, is_super_call, is_super_statement}

-- NO CALL

left-no-call : (k : AstType) (l : Label) (fs : Fields) → is_left k fs ≡ true → is_super_call (node k l fs) ≡ false
left-no-call CallExpression l fs h = absurd (cc h)
left-no-call _ l fs h = refl

settled-by : (x : Tree) (k : AstType) (l : Label) (fs : Fields) (b : Bool) → (same_type k CallExpression && calls_it fs) ≡ b → is_super_call (if b then then_set x l fs else node k l fs) ≡ false
settled-by x k l fs true h = refl
settled-by x k l fs false h = h

gone-by : (x : Tree) (k : AstType) (l : Label) (fs gs : Fields) (b : Bool) → is_left k fs ≡ b → is_super_call (if b then node k l fs else settled x k l gs) ≡ false
gone-by x k l fs gs true h = left-no-call k l fs h
gone-by x k l fs gs false h = settled-by x k l gs (same_type k CallExpression && calls_it gs) refl

no-call : (x t : Tree) → is_super_call (after_super x t) ≡ false
no-call x (node k l fs) = gone-by x k l fs (after_super_in x (is_list k) fs) (is_left k fs) refl

-- NO STATEMENT THAT IS ONE

call-by : (x : Tree) (l : Label) (fs : Fields) (b : Bool) → is_super_statement (if b then then_set x l fs else node CallExpression l fs) ≡ false
call-by x l fs true = refl
call-by x l fs false = refl

chain-by : (l : Label) (fs gs : Fields) (b : Bool) → is_super_statement (if b then node ChainExpression l fs else node ChainExpression l gs) ≡ false
chain-by l fs gs true = refl
chain-by l fs gs false = refl

pub no-statement : (x t : Tree) → is_super_statement (after_super x t) ≡ false
no-statement x (node ExpressionStatement l done) = refl
no-statement x (node ExpressionStatement l (one t then done)) = no-call x t
no-statement x (node ExpressionStatement l (one t then (g then fs))) = refl
no-statement x (node ExpressionStatement l (missing then fs)) = refl
no-statement x (node ExpressionStatement l (many ts then fs)) = refl
no-statement x (node ExpressionStatement l (statements ts then fs)) = refl
no-statement x (node CallExpression l fs) = let gs = after_super_in x false fs in call-by x l gs (calls_it gs)
no-statement x (node ChainExpression l fs) = chain-by l fs (after_super_in x false fs) (is_left ChainExpression fs)
no-statement x _ = refl

-- A STATEMENT of which the arguments were gone through is one still

callee-stays : (x t : Tree) → same_type (kind_of t) Super ≡ true → same_type (kind_of (after_super x t)) Super ≡ true
callee-stays x (node Super l fs) h = refl
callee-stays x _ h = absurd (cc h)

calls-stay : (x : Tree) (fs : Fields) → calls_it fs ≡ true → calls_it (after_super_in x false fs) ≡ true
calls-stay x (one t then fs) h = callee-stays x t h
calls-stay x _ h = absurd (cc h)

pub statement-stays : (x t : Tree) → is_super_statement t ≡ true → is_super_statement (in_arguments x t) ≡ true
statement-stays x (node ExpressionStatement l (one (node j m fs) then done)) h =
    let parts = and_parts (same_type j CallExpression) (calls_it fs) h in
    rw (parts.0, calls-stay x fs parts.1) refl
statement-stays x _ h = absurd (cc h)
