-- Tests of calls of `super` look at no mark and no id.
use Rattle.std.proofs.Common.{◌≡◌, ◌&&◌, ◌||◌, not, refl}
use Rattle.es_tree.specs.Ancestors.{is_function}
use Rattle.es_tree.specs.Bare.{bare, bare_field, bare_fields, bare_trees}
use Rattle.es_tree.specs.HasForm.{same_type}
use Rattle.es_tree.specs.Tree.{Tree, node, Fields, done, ◌then◌, Field, missing, one, many, statements, Trees, empty, ◌before◌}
use Rattle.es_tree.specs.declared.ast_type.AstType.TheVariants.{CallExpression, ExpressionStatement}
use Rattle.es_super_calls.specs.SuperCalls.{calls_it, calls_super, calls_super_among, calls_super_before, calls_super_by, calls_super_in, is_super_call, is_super_statement}

-- CALLS

pub calls_it-bare : (fs : Fields) → calls_it (bare_fields fs) ≡ calls_it fs
calls_it-bare done = refl
calls_it-bare (missing then fs) = refl
calls_it-bare (one (node k l gs) then fs) = refl
calls_it-bare (many ts then fs) = refl
calls_it-bare (statements ts then fs) = refl

pub call-bare : (t : Tree) → is_super_call (bare t) ≡ is_super_call t
call-bare (node k l fs) = λ i. same_type k CallExpression && calls_it-bare fs i

pub statement-bare : (t : Tree) → is_super_statement (bare t) ≡ is_super_statement t
statement-bare (node ExpressionStatement l done) = refl
statement-bare (node ExpressionStatement l (missing then fs)) = refl
statement-bare (node ExpressionStatement l (one t then done)) = call-bare t
statement-bare (node ExpressionStatement l (one t then (f then fs))) = refl
statement-bare (node ExpressionStatement l (many ts then fs)) = refl
statement-bare (node ExpressionStatement l (statements ts then fs)) = refl
statement-bare (node _ l fs) = refl

mutual
  calls-bare : (t : Tree) → calls_super (bare t) ≡ calls_super t
  calls-bare (node k l fs) = λ i. (same_type k CallExpression && calls_it-bare fs i) || (not (is_function k) && calls-in-bare fs i)

  calls-in-bare : (fs : Fields) → calls_super_in (bare_fields fs) ≡ calls_super_in fs
  calls-in-bare done = refl
  calls-in-bare (f then fs) = λ i. calls-by-bare f i || calls-in-bare fs i

  calls-by-bare : (f : Field) → calls_super_by (bare_field f) ≡ calls_super_by f
  calls-by-bare missing = refl
  calls-by-bare (one t) = calls-bare t
  calls-by-bare (many ts) = calls-among-bare ts
  calls-by-bare (statements ts) = calls-among-bare ts

  calls-among-bare : (ts : Trees) → calls_super_among (bare_trees ts) ≡ calls_super_among ts
  calls-among-bare empty = refl
  calls-among-bare (t before ts) = λ i. calls-bare t i || calls-among-bare ts i

pub calls-before-bare : (fs : Fields) → calls_super_before (bare_fields fs) ≡ calls_super_before fs
calls-before-bare done = refl
calls-before-bare (n then done) = refl
calls-before-bare (n then (ps then fs)) = calls-by-bare ps
