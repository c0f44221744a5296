-- What stays of a parameter whose pattern moves.
use Rattle.std.proofs.Common.{arith, ◌≤◌, ◌+◌, ◌≡◌, ℕ, refl, sym, subst, ◌∙◌, List, [], ◌∷◌, ◌++◌}
use Rattle.std.specs.Prelude.{Bool, true, false, not, ◌&&◌, Option, Some, None, is_some}
use Rattle.es_tree.specs.Words.{Text}
use Rattle.es_tree.specs.Tree.{Tree, node, Label, Fields, done, Field, Trees}
use Rattle.es_tree.specs.declared.ast_type.AstType.TheVariants.{AssignmentPattern, Identifier, ObjectPattern}
use Rattle.es_semantic.specs.RolesOf.{reads}
use Rattle.es_semantic.specs.declared.place.Role.{Role}
use Rattle.es_semantic.specs.declared.place.Role.TheVariants.{Binds}
use Rattle.es_semantic.specs.declared.place.Binding.TheVariants.{Parameter, Let}
use Rattle.es_resolution.specs.Declarations.{Bound, sought, declared}
use Rattle.es_resolution.specs.Resolved.{Place, no_name, Resolved, ResolvedAll, ResolvedBy}
use Rattle.es_resolution.specs.Named.{Named, NamedAll, NamedBy}
use Rattle.es_resolution.specs.Single.{scopes_with, scopes_by}
use Rattle.es_steps.specs.Steps.{Whole}
use Rattle.es_steps.specs.Rules.{next_name}
use Rattle.es_steps.specs.ParameterPatterns.{parameter_names, HoldsPattern, StandsApart, IsFunctionName}
use Rattle.es_steps.specs.Patterns.{avoiding}
use Rattle.es_steps.specs.ParameterPatterns.HoldsPattern.{alone, with_default}
use Rattle.es_steps.specs.ParameterPatterns.IsFunctionName.{nameless, named}
use Rattle.es_steps.proofs.Alike.{AlikeRole}
use Rattle.es_steps.proofs.Alike.AlikeRole.{either}
use Rattle.es_steps.proofs.Kept.{Known, plain, Agree}
use Rattle.es_resolution.proofs.MoreNames.{named-more, own-more}
use Rattle.es_steps.proofs.Same.{same, same-all}
use Rattle.es_steps.proofs.Written.{nil-right, body_place}
use Rattle.es_steps.proofs.Taken.{at-least, none-some}
use Rattle.es_steps.proofs.Inserted.{Inserted, inserted-alone}
use Rattle.es_steps.proofs.OneName.{lower}

pub parameter-let : AlikeRole (Binds Parameter) (Binds Let)
parameter-let = either (record { asked = refl; hoists_not = refl }) (record { asked = refl; hoists_not = refl })

-- what is known of a tree in which these names stand
abbrev pub standing : (Text → Bool) → ℕ → Known
standing u f = record { in_use = u; in_use_after = u; given = []; free = f; free_after = f; more = λ y h. h; freer = at-least f; range = tt; fresh = λ y o e. absurd (none-some o e); sound = tt }

pub avoids : (bs : List Bound) (u : Text → Bool) (y : Text) → avoiding bs u y ≡ true → (u y ≡ true) × (sought bs y ≡ None)
avoids bs u y e = at (u y) (sought bs y) e
  where
    at : (a : Bool) (o : Option (Option ℕ)) → (a && not (is_some o)) ≡ true → (a ≡ true) × (o ≡ None)
    at true None e = (refl, refl)
    at true (Some s) e = absurd (cc e)
    at false o e = absurd (cc e)

pub wider-use : (bs : List Bound) (u : Text → Bool) (y : Text) → avoiding bs u y ≡ true → u y ≡ true
wider-use bs u y e = (avoids bs u y e).0

-- trees in which only these names stand, where look-up changes for others alone
pub stand-all : (u : Text → Bool) (f : ℕ) (r : Role) (o q : Place) → ((y : Text) → u y ≡ true → q.scope y ≡ o.scope y) → ((y : Text) → u y ≡ true → q.hoist y ≡ o.hoist y) → ((y : Text) → u y ≡ true → q.parameters y ≡ o.parameters y) → (ts : Trees) → NamedAll u f r ts → ResolvedAll r o ts → ResolvedAll r q ts
stand-all u f r o q a b c ts used d = (same-all (standing u f) o r ts used).resolved o q (record { scope = a; hoist = b }) (record { used = c; new = λ g y o e. absurd (none-some o e) }) tt (record { scope = refl; parameters = λ e. refl }) d

pub stand : (u : Text → Bool) (f : ℕ) (r : Role) (o q : Place) → ((y : Text) → u y ≡ true → q.scope y ≡ o.scope y) → ((y : Text) → u y ≡ true → q.hoist y ≡ o.hoist y) → ((y : Text) → u y ≡ true → q.parameters y ≡ o.parameters y) → (t : Tree) → Named u f r t → Resolved r o t → Resolved r q t
stand u f r o q a b c t used d = (same (standing u f) o r t used).resolved o q (record { scope = a; hoist = b }) (λ e. record { used = c; new = λ g y o e. absurd (none-some o e) }) tt (record { scope = refl; parameters = λ e. refl }) d

-- the name of a function
pub name-scopes : (f : Field) → IsFunctionName f → (s : ℕ) (ps : Text → Bool) (r : Role) → scopes_by s ps r f ≡ 0
name-scopes f nameless s ps r = refl
name-scopes f named s ps r = refl

pub name-resolved : (f : Field) → IsFunctionName f → (n : Known) (r : Role) (o q : Place) → Agree n o q → NamedBy n.in_use n.free r f → ResolvedBy r o f → ResolvedBy r q f
name-resolved f nameless n r o q a used d = tt
name-resolved f (named {l = l}) n r o q a used d = (same (plain n) (body_place o) r (node Identifier l done) used).resolved (body_place o) (body_place q) (record { scope = a.scope; hoist = a.hoist }) (λ e. record { used = λ y u. refl; new = λ g y o e. refl }) tt (record { scope = refl; parameters = λ e. refl }) d

pub record Stays (w : Whole) (x : Text) (p t u : Tree) : Type 0 where
  pub moving : Inserted (parameter_names p) [] (declared false (Binds Parameter) t)
  pub coming : Inserted (next_name w x ∷ []) [] (declared false (Binds Parameter) u)
  pub vars : declared true (Binds Parameter) u ≡ declared true (Binds Parameter) t
  pub scopes : (s : ℕ) (ps ps' : Text → Bool) → scopes_with s ps (Binds Parameter) t ≡ scopes_with s ps' (Binds Parameter) u + scopes_with s no_name (Binds Parameter) p
  pub named : (v : Text → Bool) → ((y : Text) → w.in_use y ≡ true → v y ≡ true) → v x ≡ true → Named v (w.free_symbol + 1) (Binds Parameter) u
  pub pattern_named : Named w.in_use w.free_symbol (Binds Parameter) p
  pub resolved : (o q : Place) → ((y : Text) → w.in_use y ≡ true → sought (parameter_names p) y ≡ None → q.scope y ≡ o.scope y) → ((y : Text) → w.in_use y ≡ true → q.hoist y ≡ o.hoist y) → q.scope x ≡ Some w.free_symbol → Resolved (Binds Parameter) o t → Resolved (Binds Parameter) q u
  pub pattern : (o : Place) → Resolved (Binds Parameter) o t → Resolved (Binds Parameter) (body_place o) p

pub stays : (w : Whole) (x : Text) (l : Label) (fs : Fields) (t u : Tree) → HoldsPattern (next_name w x) (node ObjectPattern l fs) t u → StandsApart (parameter_names (node ObjectPattern l fs)) w u → declared true (Binds Parameter) (node ObjectPattern l fs) ≡ [] → Named w.in_use w.free_symbol (Binds Parameter) t → Stays w x (node ObjectPattern l fs) t u
stays w x l fs t u alone default form used = record {
  moving = inserted-alone (parameter_names (node ObjectPattern l fs));
  coming = inserted-alone (next_name w x ∷ []);
  vars = sym form;
  scopes = λ s ps ps'. omega arith;
  named = λ v more new. ((new, lower w.free_symbol), tt);
  pattern_named = used;
  resolved = λ o q a b e d. ((sym e, refl), refl, tt);
  pattern = λ o d. d;
}
stays w x l fs t u (with_default {l = m} {d = d} silent) default form used = record {
  moving = subst (λ (z : List Bound). Inserted (parameter_names p) [] z) (sym (with-none (parameter_names p))) (inserted-alone (parameter_names p));
  coming = subst (λ (z : List Bound). Inserted (next_name w x ∷ []) [] z) (sym (with-none (next_name w x ∷ []))) (inserted-alone (next_name w x ∷ []));
  vars = λ i. sym form i ++ (declared true reads d ++ []);
  scopes = λ s ps ps'. omega arith;
  named = λ v more new. (own-more w.in_use v more w.free_symbol (w.free_symbol + 1) (wide w.free_symbol) (Binds Parameter) AssignmentPattern m used.0, (((new, lower w.free_symbol), tt), (named-more w.in_use v more w.free_symbol (w.free_symbol + 1) (wide w.free_symbol) reads d used.1.1.0, tt)));
  pattern_named = used.1.0;
  resolved = λ o q a b e g. (tt, refl, (((sym e, refl), refl, tt), (stand (avoiding (parameter_names p) w.in_use) w.free_symbol reads (body_place o) (body_place q) (λ y k. let z = avoids (parameter_names p) w.in_use y k in a y z.0 z.1) (λ y k. b y (wider-use (parameter_names p) w.in_use y k)) (λ y k. refl) d default g.2.1.0, tt)));
  pattern = λ o g. g.2.0;
}
  where
    p : Tree
    p = node ObjectPattern l fs

    with-none : (bs : List Bound) → bs ++ (declared false reads d ++ []) ≡ bs
    with-none bs = (λ i. bs ++ (silent false i ++ [])) ∙ nil-right bs

    wide : (k : ℕ) → k ≤ k + 1
    wide k = omega arith
