-- What stands for a helper, called or handed on: a member of `babelHelpers`, in which nothing is called.
use Rattle.std.proofs.Common.{◌≡◌, ◌∙◌, refl}
use Rattle.std.specs.Option.{option_or}
use Rattle.std.specs.Prelude.{Bool, true, false, not, ◌&&◌, Option, Some, None, codes, is_some, if◌then◌else◌}
use Rattle.es_tree.specs.Names.{first_text, flag_at}
use Rattle.es_tree.specs.Tree.{Tree, node, Label, Fields, done, ◌then◌, one, many, empty, ◌before◌}
use Rattle.es_tree.specs.Words.{Text}
use Rattle.es_tree.specs.declared.ast_type.AstType.{AstType}
use Rattle.es_tree.specs.declared.ast_type.AstType.TheVariants.{CallExpression, Identifier, MemberExpression}
use Rattle.es_tree.specs.declared.helper.Helper.{Helper}
use Rattle.es_tree.specs.declared.helper.Helper.TheVariants.{ToPropertyKey}
use Rattle.es_helper_calls.specs.HelperCalls.{calling, calling_here, calling_in, handed_on, helper_of, in_its_place, is_called, is_dotted, named_helper, passed_helper, used_helper, with_argument, with_callee}

-- a member, not optional, of a name by a name
pub data IsCallee : Tree → Type 0 where
  a_member : {l j m : Label} {gs fs : Fields} → flag_at 1 l.flags ≡ false → IsCallee (node MemberExpression l (one (node Identifier j gs) then (one (node Identifier m fs) then done)))

both-some : {A : Type 0} (b c : Bool) (x : Option A) (y : A) → (if b && c then x else None) ≡ Some y → (b ≡ true) × (c ≡ true)
both-some true true x y e = (refl, refl)
both-some true false x y e = absurd (cc e)
both-some false c x y e = absurd (cc e)

not-both : (b c : Bool) → (not b && not c) ≡ true → c ≡ false
not-both true c e = absurd (cc e)
not-both false true e = absurd (cc e)
not-both false false e = refl

of-name : (l m : Label) (fs : Fields) (o : Tree) → flag_at 1 l.flags ≡ false → is_called (codes "babelHelpers") o ≡ true → IsCallee (node MemberExpression l (one o then (one (node Identifier m fs) then done)))
of-name l m fs (node Identifier j gs) e d = a_member e
of-name l m fs (node _ j gs) e d = absurd (cc d)

pub callee-shape : (f : Tree) (h : Helper) → helper_of f ≡ Some h → IsCallee f
callee-shape (node MemberExpression l (one o then (one (node Identifier m fs) then done))) h e =
    let parts = both-some (is_dotted l) (is_called (codes "babelHelpers") o) (named_helper (first_text m.texts)) h e in
    of-name l m fs o (not-both (flag_at 0 l.flags) (flag_at 1 l.flags) parts.0) parts.1
callee-shape _ h e = absurd (cc e)

-- A USE OF A HELPER, by kind, label and fields: a call, or a call of something else whose one argument it is
pub data IsUse (h : Helper) : AstType → Label → Fields → Type 0 where
  a_call : {l : Label} {f : Tree} {fs : Fields} → flag_at 0 l.flags ≡ false → helper_of f ≡ Some h → IsUse h CallExpression l (one f then fs)
  a_pass : {l : Label} {f t : Tree} {fs : Fields} → flag_at 0 l.flags ≡ false → helper_of f ≡ None → handed_on (helper_of t) ≡ Some h → IsUse h CallExpression l (one f then (many (t before empty) then fs))

-- what is handed on is a helper
pub handed-some : (o : Option Helper) (h : Helper) → handed_on o ≡ Some h → o ≡ Some h
handed-some None h e = absurd (cc e)
handed-some (Some ToPropertyKey) h e = e
handed-some (Some _) h e = absurd (cc e)

of-argument : (h : Helper) (l : Label) (f : Tree) (fs : Fields) → flag_at 0 l.flags ≡ false → helper_of f ≡ None → passed_helper fs ≡ Some h → IsUse h CallExpression l (one f then fs)
of-argument h l f (many (t before empty) then fs) mark e d = a_pass mark e d
of-argument h l f _ mark e d = absurd (cc d)

of-parts : (h : Helper) (l : Label) (f : Tree) (fs : Fields) (b : Bool) (o : Option Helper) → flag_at 0 l.flags ≡ b → helper_of f ≡ o → (if b then None else option_or o (passed_helper fs)) ≡ Some h → IsUse h CallExpression l (one f then fs)
of-parts h l f fs true o mark e d = absurd (cc d)
of-parts h l f fs false None mark e d = of-argument h l f fs mark e d
of-parts h l f fs false (Some g) mark e d = a_call mark (e ∙ d)

pub use-shape : (k : AstType) (l : Label) (fs : Fields) (h : Helper) → used_helper k l fs ≡ Some h → IsUse h k l fs
use-shape CallExpression l (one f then fs) h e = of-parts h l f fs (flag_at 0 l.flags) (helper_of f) refl refl e
use-shape _ l fs h e = absurd (cc e)

-- WHAT IT BECOMES

called-place : (t f : Tree) (fs : Fields) (h : Helper) → helper_of f ≡ Some h → in_its_place t (one f then fs) ≡ (one t then fs)
called-place t f fs h e = λ i. if is_some (e i) then with_callee t (one f then fs) else with_argument t (one f then fs)

passed-place : (t f u : Tree) (fs : Fields) → helper_of f ≡ None → in_its_place t (one f then (many (u before empty) then fs)) ≡ (one f then (many (t before empty) then fs))
passed-place t f u fs e = λ i. if is_some (e i) then with_callee t (one f then (many (u before empty) then fs)) else with_argument t (one f then (many (u before empty) then fs))

module _ (c : Helper → Tree) where
  -- a tree stands for the helper that it stood for
  name-now : (x : Text) (o : Tree) → is_called x (calling c o) ≡ is_called x o
  name-now x (node Identifier l fs) = refl
  name-now x (node _ l fs) = refl

  pub helper-now : (t : Tree) → helper_of (calling c t) ≡ helper_of t
  helper-now (node MemberExpression l (one o then (one (node Identifier m fs) then done))) = λ i. if is_dotted l && name-now (codes "babelHelpers") o i then named_helper (first_text m.texts) else None
  helper-now _ = refl

  -- where a helper is called, and where one is handed on
  pub here-called : (f : Tree) (fs : Fields) (h : Helper) → helper_of f ≡ Some h → calling_here c (Some h) (calling_in c (one f then fs)) ≡ (one (c h) then calling_in c fs)
  here-called f fs h e = called-place (c h) (calling c f) (calling_in c fs) h (helper-now f ∙ e)

  pub here-passed : (f t : Tree) (fs : Fields) (h : Helper) → helper_of f ≡ None → calling_here c (Some h) (calling_in c (one f then (many (t before empty) then fs))) ≡ (one (calling c f) then (many (c h before empty) then calling_in c fs))
  here-passed f t fs h e = passed-place (c h) (calling c f) (calling c t) (calling_in c fs) (helper-now f ∙ e)
