-- An expression, and a statement that moves as it is, at the top of a module and in a block: there they declare and resolve the same.
use Rattle.std.proofs.Common.{arith, ◌≡◌, ℕ, refl, sym, ap, ◌∙◌, List, [], ◌++◌}
use Rattle.std.specs.Prelude.{Bool, true, false, not, ◌||◌, Option}
use Rattle.std.specs.List.{list_any}
use Rattle.std.proofs.lemmas.Bool.{and_parts}
use Rattle.es_tree.specs.HasForm.{has_form, same_type, trees_form}
use Rattle.es_tree.specs.Table.{kinds_of}
use Rattle.es_tree.specs.Tree.{Tree, node, Label, Fields, done, ◌then◌, missing, one, many, statements, Trees, empty, ◌before◌, kind_of}
use Rattle.es_tree.specs.Words.{Text}
use Rattle.es_tree.specs.declared.ast_type.AstType.{AstType}
use Rattle.es_tree.specs.declared.ast_type.AstType.TheVariants.{ParenthesizedExpression}
use Rattle.es_tree.specs.declared.table.Sort.TheVariants.{Expression as s-Expression, Statement as s-Statement, VariableDeclarator as s-VariableDeclarator}
use Rattle.es_tree.proofs.CoreBreaks.{among_kinds}
use Rattle.es_tree.proofs.NodeForm.{node_form}
use Rattle.es_semantic.specs.RolesOf.{reads}
use Rattle.es_semantic.specs.declared.place.Binding.TheVariants.{Variable}
use Rattle.es_semantic.specs.declared.place.Role.TheVariants.{Binds, Top}
use Rattle.es_resolution.specs.Declarations.{Bound, declared, declared_among}
use Rattle.es_resolution.specs.Named.{Named}
use Rattle.es_resolution.specs.Resolved.{no_name, Resolved}
use Rattle.es_resolution.specs.Single.{scopes_with}
use Rattle.es_resolution.proofs.AllForms.{All, AllAmong}
use Rattle.es_steps.specs.UsingBodies.{is_as_in_block}
use Rattle.es_steps.specs.UsingBodies.TopFunctions.{no_function, other}
use Rattle.es_steps.proofs.FormLists.{first-formed}
use Rattle.es_steps.proofs.TopFunctions.{Entered, entered}
use Rattle.es_steps.proofs.Written.{nil-right}
use Rattle.es_pattern_moves.proofs.QuietStatements.{is_calm, quiet}
use Rattle.es_pattern_moves.proofs.Settled.{Sound}
use Rattle.es_using_modules.proofs.TopMoves.{is_plain}
use Rattle.es_using_modules.proofs.TopShifts.{flat, in_both}

pub any-nil : (q : Bound → Bool) (bs : List Bound) → list_any q (bs ++ []) ≡ list_any q bs
any-nil q bs = ap (λ cs. list_any q cs) (nil-right bs)

-- the same in a block
pub record Sunk (e : Tree) : Type 0 where
  pub both : (q : Bound → Bool) → in_both q (declared false reads e) (declared true reads e) ≡ in_both q (declared false Top e) (declared true Top e)
  pub scopes : (s : ℕ) → scopes_with s no_name reads e ≡ scopes_with s no_name Top e
  pub named : (u : Text → Bool) (f : ℕ) → Named u f Top e → Named u f reads e
  pub resolved : (S : Text → Option ℕ) → Resolved Top (flat S no_name) e → Resolved reads (flat S no_name) e

sunk-plain : (k : AstType) (l : Label) (fs : Fields) → is_as_in_block k ≡ true → Sunk (node k l fs)
sunk-plain k l fs as_in =
    let t = node k l fs in
    let h : Entered (t before empty) [] = entered (t before empty) [] (other as_in no_function) in
    record {
      both = λ q.
          (λ i. sym (any-nil q (declared false reads t)) i || sym (any-nil q (declared true reads t)) i)
          ∙ (λ i. h.lexical.any q i || sym (h.vars.any q) i)
          ∙ (λ i. any-nil q (declared false Top t) i || any-nil q (declared true Top t) i);
      scopes = λ s. let a = h.scopes s no_name in omega arith;
      named = λ u f d. (h.named u f (d, tt)).0;
      resolved = λ S d. (h.resolved (flat S no_name) (λ y e. absurd (cc e)) (d, tt)).0;
    }

sunk-inside : (l : Label) (x : Tree) → Sunk x → Sunk (node ParenthesizedExpression l (one x then done))
sunk-inside l x h = record {
  both = λ q. (λ i. any-nil q (declared false reads x) i || any-nil q (declared true reads x) i) ∙ h.both q ∙ sym (λ i. any-nil q (declared false Top x) i || any-nil q (declared true Top x) i);
  scopes = λ s. let a = h.scopes s in omega arith;
  named = λ u f d. (d.0, (h.named u f d.1.0, tt));
  resolved = λ S d. (tt, refl, (h.resolved S d.2.0, tt));
}

-- EXPRESSIONS

value-block : (k : AstType) (l : Label) (fs : Fields) → has_form s-Expression (node k l fs) ≡ true → (same_type k ParenthesizedExpression || is_as_in_block k) ≡ true
value-block k l fs f = among_kinds (λ j. same_type j ParenthesizedExpression || is_as_in_block j) k (kinds_of s-Expression) (node_form s-Expression k l fs f).sort refl

pub sunk-value : (e : Tree) → has_form s-Expression e ≡ true → Sunk e
sunk-value (node ParenthesizedExpression l (one x then done)) f = sunk-inside l x (sunk-value x (and_parts (has_form s-Expression x) true (node_form s-Expression ParenthesizedExpression l (one x then done) f).children).0)
sunk-value (node ParenthesizedExpression l (one x then (g then fs))) f = absurd (let no : false ≡ true = (and_parts (has_form s-Expression x) false (node_form s-Expression ParenthesizedExpression l (one x then (g then fs)) f).children).1 in cc no)
sunk-value (node ParenthesizedExpression l (missing then fs)) f = absurd (let no : false ≡ true = (node_form s-Expression ParenthesizedExpression l (missing then fs) f).children in cc no)
sunk-value (node ParenthesizedExpression l (many ts then fs)) f = absurd (let no : false ≡ true = (node_form s-Expression ParenthesizedExpression l (many ts then fs) f).children in cc no)
sunk-value (node ParenthesizedExpression l (statements ts then fs)) f = absurd (let no : false ≡ true = (node_form s-Expression ParenthesizedExpression l (statements ts then fs) f).children in cc no)
sunk-value (node ParenthesizedExpression l done) f = absurd (let no : false ≡ true = (node_form s-Expression ParenthesizedExpression l done f).children in cc no)
sunk-value (node k l fs) f = sunk-plain k l fs (value-block k l fs f)

pub value-silent : (e : Tree) → has_form s-Expression e ≡ true → All Sound e → declared false reads e ≡ []
value-silent (node k l fs) f h = quiet reads (node k l fs) refl (among_kinds (λ j. is_calm j l) k (kinds_of s-Expression) (node_form s-Expression k l fs f).sort refl) h

-- STATEMENTS that move as they are

when-plain : (a b : Bool) → (not a || b) ≡ true → a ≡ true → b ≡ true
when-plain true b e d = e
when-plain false b e d = absurd (cc d)

pub sunk-statement : (t : Tree) → has_form s-Statement t ≡ true → is_plain (kind_of t) ≡ true → Sunk t
sunk-statement (node k l fs) f e = sunk-plain k l fs (when-plain (is_plain k) (is_as_in_block k) (among_kinds (λ j. not (is_plain j) || is_as_in_block j) k (kinds_of s-Statement) (node_form s-Statement k l fs f).sort refl) e)

pub statement-silent : (t : Tree) → has_form s-Statement t ≡ true → is_plain (kind_of t) ≡ true → All Sound t → declared false reads t ≡ []
statement-silent (node k l fs) f e h = quiet reads (node k l fs) refl (when-plain (is_plain k) (is_calm k l) (among_kinds (λ j. not (is_plain j) || is_calm j l) k (kinds_of s-Statement) (node_form s-Statement k l fs f).sort refl) e) h

-- DECLARATORS of `var`

declarator-silent : (d : Tree) → has_form s-VariableDeclarator d ≡ true → All Sound d → declared false (Binds Variable) d ≡ []
declarator-silent (node k l fs) f h = quiet (Binds Variable) (node k l fs) refl (among_kinds (λ j. is_calm j l) k (kinds_of s-VariableDeclarator) (node_form s-VariableDeclarator k l fs f).sort refl) h

pub declarators-silent : (ds : Trees) → trees_form s-VariableDeclarator s-VariableDeclarator ds ≡ true → AllAmong Sound ds → declared_among false (Binds Variable) ds ≡ []
declarators-silent empty f h = refl
declarators-silent (d before ds) f h =
    let parts = first-formed s-VariableDeclarator d ds f in
    λ i. declarator-silent d parts.0 h.0 i ++ declarators-silent ds parts.1 h.1 i
