-- The calls of which a list is taken: what they call, their list, and that neither ids nor marks count.
use Rattle.std.proofs.Common.{◌≡◌, ◌∙◌, refl, sym, ap}
use Rattle.std.specs.Prelude.{true, not, ◌&&◌}
use Rattle.std.proofs.lemmas.Bool.{and_parts}
use Rattle.es_tree.specs.Bare.{bare, bare_fields, bare_label}
use Rattle.es_tree.specs.Names.{flag_at}
use Rattle.es_tree.specs.Tree.{Tree, node, Label, Fields, done, ◌then◌, one, many, empty, ◌before◌}
use Rattle.es_tree.specs.declared.ast_type.AstType.{AstType}
use Rattle.es_tree.specs.declared.ast_type.AstType.TheVariants.{ArrayExpression, CallExpression, StringLiteral}
use Rattle.es_helper_calls.specs.HelperCalls.{helper_of}
use Rattle.es_helper_calls.specs.TextLists.{are_texts, is_text_list}
use Rattle.es_helper_imports.proofs.BareCalls.{bare-helper}
use Rattle.es_excluded_keys.specs.ExcludedKeys.{has_key_list, is_leaving_out, leaves_out}

-- the fields of such a call
pub data IsTaken : Fields → Type 0 where
  is_taken : (f s ks : Tree) → is_leaving_out (helper_of f) ≡ true → is_text_list ks ≡ true → IsTaken (one f then (many (s before (ks before empty)) then done))

of-list : (fs : Fields) → has_key_list fs ≡ true → IsTaken fs
of-list (one f then (many (s before (ks before empty)) then done)) e = let parts = and_parts (is_leaving_out (helper_of f)) (is_text_list ks) e in is_taken f s ks parts.0 parts.1
of-list _ e = absurd (cc e)

pub taken : (l : Label) (fs : Fields) → leaves_out CallExpression l fs ≡ true → IsTaken fs
taken l fs e = of-list fs (and_parts (not (flag_at 0 l.flags)) (has_key_list fs) e).1

-- what it calls, and its list
pub taken-parts : (l : Label) (f s ks : Tree) → leaves_out CallExpression l (one f then (many (s before (ks before empty)) then done)) ≡ true → (is_leaving_out (helper_of f) ≡ true) × (is_text_list ks ≡ true)
taken-parts l f s ks e = and_parts (is_leaving_out (helper_of f)) (is_text_list ks) (and_parts (not (flag_at 0 l.flags)) (is_leaving_out (helper_of f) && is_text_list ks) e).1

-- WITHOUT IDS AND MARKS

texts-bare : (fs : Fields) → are_texts (bare_fields fs) ≡ are_texts fs
texts-bare (one (node StringLiteral l done) then fs) = texts-bare fs
texts-bare _ = refl

pub list-bare : (t : Tree) → is_text_list (bare t) ≡ is_text_list t
list-bare (node ArrayExpression l (f then fs)) = texts-bare (f then fs)
list-bare _ = refl

key-list-bare : (fs : Fields) → has_key_list (bare_fields fs) ≡ has_key_list fs
key-list-bare (one f then (many (s before (ks before empty)) then done)) = λ i. is_leaving_out (bare-helper f i) && list-bare ks i
key-list-bare _ = refl

leaves-bare : (k : AstType) (l : Label) (fs : Fields) → leaves_out k (bare_label l) (bare_fields fs) ≡ leaves_out k l fs
leaves-bare CallExpression l fs = ap (λ b. not (flag_at 0 l.flags) && b) (key-list-bare fs)
leaves-bare _ l fs = refl

pub leaves-alike : (k : AstType) (l m : Label) (fs gs : Fields) → bare_label m ≡ bare_label l → bare_fields gs ≡ bare_fields fs → leaves_out k m gs ≡ leaves_out k l fs
leaves-alike k l m fs gs e d = sym (leaves-bare k m gs) ∙ ((λ i. leaves_out k (e i) (d i)) ∙ leaves-bare k l fs)
