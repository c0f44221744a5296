-- What the code tests of nodes: which chains are lowered, and what of a spine (ECMA-262, 13.3.9).
use Rattle.std.specs.Prelude.{◌≡◌, ℕ, ◌&&◌, ◌||◌, Bool, true, false, not, Option, bytes_eq, codes, List, []}
use Rattle.es_tree.specs.Names.{first_text}
use Rattle.es_tree.specs.Parens.{without_parens}
use Rattle.es_tree.specs.Tree.{Tree, node, Fields, done, ◌then◌, one, many}
use Rattle.es_tree.specs.Words.{Text}
use Rattle.es_tree.specs.declared.ast_type.AstType.TheVariants.{CallExpression, ChainExpression, Identifier, MemberExpression, ParenthesizedExpression, UnaryExpression}
use Rattle.es_runs.specs.Core.{flag, flag_after}
use Rattle.es_runs.specs.Duplication.{has_no_fields}
use Rattle.es_runs.specs.OptionalChaining.{is_eval, is_member}
use Rattle.es_runs.specs.Rules.{strays}
use Rattle.es_semantic.specs.NodeMarks.{symbol_mark}
use Rattle.es_steps.proofs.FormParts.{IsFormed}
use Rattle.lower_temporaries.specs.Parenthesized.{first_child}
use Rattle.lower_temporaries.specs.Shapes.{is_pair}

-- FIELDS

-- one child and no more
abbrev pub is_single : Fields → Bool
is_single (one t then done) = true
is_single _ = false

-- a callee and arguments
abbrev pub is_call_pair : Fields → Bool
is_call_pair (one f then (many arguments then done)) = true
is_call_pair _ = false

-- NODES

-- a step of a spine, with the fields of its kind
abbrev pub is_member_step : Tree → Bool
is_member_step (node MemberExpression l fs) = is_pair fs
is_member_step _ = false

abbrev pub is_call_step : Tree → Bool
is_call_step (node CallExpression l fs) = is_call_pair fs
is_call_step _ = false

abbrev pub is_step : Tree → Bool
is_step (node MemberExpression l fs) = is_pair fs
is_step (node CallExpression l fs) = is_call_pair fs
is_step _ = false

-- whether it has an optional mark
abbrev pub is_optional : Tree → Bool
is_optional (node MemberExpression l fs) = flag_after l.flags
is_optional (node CallExpression l fs) = flag l.flags
is_optional _ = false

-- a chain with a content
abbrev pub is_content : Tree → Bool
is_content (node ChainExpression l fs) = is_single fs
is_content _ = false

abbrev pub is_parenthesized : Tree → Bool
is_parenthesized (node ParenthesizedExpression l fs) = is_single fs
is_parenthesized _ = false

-- a call without a mark
abbrev pub is_plain_call : Tree → Bool
is_plain_call (node CallExpression l fs) = not (flag l.flags) && is_call_pair fs
is_plain_call _ = false

abbrev pub is_delete : Tree → Bool
is_delete (node UnaryExpression l fs) = bytes_eq (first_text l.texts) (codes "delete") && is_single fs
is_delete _ = false

-- SPINES

-- whether the spine from here on has an optional mark
abbrev mutual
  pub has_mark : Tree → Bool
  has_mark (node MemberExpression l fs) = is_pair fs && (flag_after l.flags || first_has_mark fs)
  has_mark (node CallExpression l fs) = is_call_pair fs && (flag l.flags || first_has_mark fs)
  has_mark _ = false

  pub first_has_mark : Fields → Bool
  first_has_mark (one t then fs) = has_mark t
  first_has_mark _ = false

-- CHAINS

-- a chain with a mark
abbrev pub is_marked_chain : Tree → Bool
is_marked_chain t = is_content t && has_mark (first_child t)

-- maybe in parentheses
abbrev mutual
  pub has_chain : Tree → Bool
  has_chain (node ParenthesizedExpression l fs) = is_single fs && first_has_chain fs
  has_chain t = is_marked_chain t

  pub first_has_chain : Fields → Bool
  first_has_chain (one t then fs) = has_chain t
  first_has_chain _ = false

-- a call without a mark of such a chain
abbrev pub calls_chain : Tree → Bool
calls_chain t = is_plain_call t && has_chain (first_child t)

-- `delete` of such a chain
abbrev pub deletes_chain : Tree → Bool
deletes_chain t = is_delete t && has_chain (first_child t)

-- MEMBERS AND NAMES

-- a member with an object and a key, without a mark
abbrev pub is_plain_member : Tree → Bool
is_plain_member (node MemberExpression l fs) = not (flag_after l.flags) && is_pair fs
is_plain_member _ = false

-- a name of these symbols, other than `eval`
abbrev pub but_eval : (Option ℕ → Bool) → Text → Option ℕ → Bool
but_eval names x s = names s && not (is_eval x)

-- a name that stands alone, whose own mark is of these symbols, other than `eval`
abbrev pub is_own_name : (Option ℕ → Bool) → Tree → Bool
is_own_name names (node Identifier l fs) = has_no_fields fs && names (symbol_mark l) && not (is_eval (first_text l.texts))
is_own_name names _ = false

-- such a name, where nothing was tested before
abbrev pub stands : (Option ℕ → Bool) → List Tree → Tree → Bool
stands names [] e = is_own_name names e
stands names _ e = false

-- WHAT A SPINE KEEPS

-- a spine as form and the static rules have it: no mark stands outside a chain (13.3)
pub record IsSound (e : Tree) : Type 0 where
  pub formed : IsFormed e
  pub tidy : strays true e ≡ false

-- what is current, without parentheses, is no member, or one without a mark
abbrev pub IsPlain : Tree → Type 0
IsPlain e = is_member (without_parens e) ≡ true → is_plain_member (without_parens e) ≡ true
