-- What the rows of optional chaining make makes the same sense where what it is made of does: by names, and by symbols.
use Rattle.std.proofs.Common.{◌≡◌, zero, refl, sym, ap, ◌∙◌, List, [], ◌∷◌, ◌++◌}
use Rattle.std.specs.Prelude.{Bool, true, false, Some, codes}
use Rattle.es_tree.specs.Bare.{bare}
use Rattle.es_tree.specs.Fresh.{node_base}
use Rattle.es_tree.specs.Tree.{Tree, Label, done, ◌then◌, one, empty, ◌before◌}
use Rattle.es_tree.specs.Words.{Text}
use Rattle.es_tree.specs.declared.ast_type.AstType.TheVariants.{BinaryExpression, ConditionalExpression, LogicalExpression, MemberExpression, UnaryExpression}
use Rattle.es_runs.specs.OptionalChaining.{delete_node, has_tests, joined_by_or, member_at, null_checks, where_short, bind_node as bind_by_name}
use Rattle.es_runs.specs.Rules.{binary_node, conditional_at, in_place_of, logical_node, member_node, null_node, void_zero_node}
use Rattle.es_runs.specs.Runs.{identifier as identifier_called, made}
use Rattle.es_steps.specs.Nodes.{word}
use Rattle.es_steps.specs.OptionalChaining.{bind_node}
use Rattle.es_steps.proofs.BridgeTrees.{node_base-bare}
use Rattle.es_statement_runs.specs.Senses.Portion.{alone as alone_field}
use Rattle.es_statement_steps.proofs.SameSenses.{EachSame, SameSense, before-same, call-same, member-same, node-same, one-same, two-same}

binary-same : (op : Text) (a b c d : Tree) → SameSense a b → SameSense c d → SameSense (binary_node op a c) (binary_node op b d)
binary-same op a b c d h g = node-same BinaryExpression (made (Some op ∷ []) []) (one a then (one c then done)) (one b then (one d then done)) refl refl refl (two-same a b c d h g)

logical-same : (op : Text) (a b c d : Tree) → SameSense a b → SameSense c d → SameSense (logical_node op a c) (logical_node op b d)
logical-same op a b c d h g = node-same LogicalExpression (made (Some op ∷ []) []) (one a then (one c then done)) (one b then (one d then done)) refl refl refl (two-same a b c d h g)

pub checks-same : (no_all : Bool) (a b c d : Tree) → SameSense a b → SameSense c d → EachSame (null_checks no_all a c) (null_checks no_all b d)
checks-same true a b c d h g = (binary-same (codes "==") a b null_node null_node h (λ p. refl), tt)
checks-same false a b c d h g = (binary-same (codes "===") a b null_node null_node h (λ p. refl), (binary-same (codes "===") c d void_zero_node void_zero_node g (λ p. refl), tt))

joined-same : (t u : Tree) (ts us : List Tree) → SameSense t u → EachSame ts us → SameSense (joined_by_or t ts) (joined_by_or u us)
joined-same t u [] [] h g = h
joined-same t u (a ∷ ts) (b ∷ us) h g = joined-same (logical_node (codes "||") t a) (logical_node (codes "||") u b) ts us (logical-same (codes "||") t u a b h g.0) g.1
joined-same t u [] (b ∷ us) h g = absurd g
joined-same t u (a ∷ ts) [] h g = absurd g

conditional-same : (m : Label) (a b c d e f : Tree) → SameSense a b → SameSense c d → SameSense e f → SameSense (conditional_at m a c e) (conditional_at m b d f)
conditional-same m a b c d e f h g k = node-same ConditionalExpression m (one a then (one c then (one e then done))) (one b then (one d then (one f then done))) refl refl refl
    (λ at. λ i. alone_field (h (at zero) i) ∷ alone_field (g (at 1) i) ∷ alone_field (k (at 2) i) ∷ [])

pub short-same : (m : Label) (ts us : List Tree) (short a b : Tree) → EachSame ts us → SameSense a b → SameSense (where_short m ts short a) (where_short m us short b)
short-same m [] [] short a b h g = g
short-same m (t ∷ ts) (u ∷ us) short a b h g = conditional-same (in_place_of m) (joined_by_or t ts) (joined_by_or u us) short short a b (joined-same t u ts us h.0 h.1) (λ p. refl) g
short-same m [] (u ∷ us) short a b h g = absurd h
short-same m (t ∷ ts) [] short a b h g = absurd h

pub delete-same : (a b : Tree) → SameSense a b → SameSense (delete_node a) (delete_node b)
delete-same a b h = node-same UnaryExpression (made (Some (codes "delete") ∷ []) []) (one a then done) (one b then done) refl refl refl (one-same a b h)

pub placed-same : (l : Label) (computed : Bool) (o u k j : Tree) → SameSense o u → SameSense k j → SameSense (member_at l computed o k) (member_at l computed u j)
placed-same l computed o u k j h g = node-same MemberExpression (record l { flags = computed ∷ false ∷ [] }) (one o then (one k then done)) (one u then (one j then done)) refl refl refl (two-same o u k j h g)

pub bind-same : (a b c d : Tree) → SameSense a b → SameSense c d → SameSense (bind_by_name a c) (bind_node b d)
bind-same a b c d h g = call-same (made [] (false ∷ [])) (member_node false a (identifier_called (codes "bind"))) (member_node false b (word (codes "bind"))) (c before empty) (d before empty) (member-same false a b (identifier_called (codes "bind")) (word (codes "bind")) h (λ p. refl)) (before-same c d empty empty g (λ p. refl))

pub tests-some : (ts us : List Tree) → EachSame ts us → has_tests us ≡ true → has_tests ts ≡ true
tests-some [] [] h e = e
tests-some (t ∷ ts) us h e = refl
tests-some [] (u ∷ us) h e = absurd h

pub none-first : (ts us : List Tree) → EachSame ts us → ts ≡ [] → us ≡ []
none-first [] [] h e = refl
none-first [] (u ∷ us) h e = absurd h
none-first (t ∷ ts) us h e = absurd (cc e)

pub none-too : (ts us : List Tree) → EachSame ts us → us ≡ [] → ts ≡ []
none-too [] us h e = refl
none-too (t ∷ ts) [] h e = absurd h
none-too (t ∷ ts) (u ∷ us) h e = absurd (cc e)

pub some-checks : (no_all : Bool) (ts : List Tree) (e again : Tree) → ts ++ null_checks no_all e again ≡ [] → ⊥
some-checks true [] e again h = cc h
some-checks false [] e again h = cc h
some-checks no_all (t ∷ ts) e again h = cc h

pub base-by-bare : (a b : Tree) → bare a ≡ bare b → node_base a ≡ node_base b
base-by-bare a b e = sym (node_base-bare a) ∙ (ap node_base e ∙ node_base-bare b)
