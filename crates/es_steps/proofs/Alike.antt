-- A tree that is moved from one declaration to another: what is bound in another way than by `var` may be bound so in any.
use Rattle.std.proofs.Common.{◌+◌, ◌≡◌, ℕ, zero, suc, refl, sym, ap, subst, ◌∙◌, List, [], ◌∷◌, ◌++◌}
use Rattle.std.specs.Prelude.{Bool, true, false, ◌&&◌, ◌||◌, map, if◌then◌else◌}
use Rattle.std.specs.List.{list_any}
use Rattle.es_tree.specs.Words.{Text}
use Rattle.es_tree.specs.Names.{first_text}
use Rattle.es_tree.specs.Tree.{Tree, node, Label, Fields, done, ◌then◌, Field, missing, one, many, statements, Trees, empty, ◌before◌}
use Rattle.es_tree.specs.declared.ast_type.AstType.{AstType}
use Rattle.es_tree.specs.declared.ast_type.AstType.TheVariants.{Identifier, FunctionExpression, ClassDeclaration, ClassExpression, ExportNamedDeclaration, ExportDefaultDeclaration, VariableDeclarator, ExportSpecifier, ParenthesizedExpression, ObjectPattern, PatternProperty, ArrayPattern, AssignmentPattern, RestElement, ObjectTarget, TargetProperty, ArrayTarget, TargetWithDefault, TargetRest}
use Rattle.es_semantic.specs.RolesOf.{role_at}
use Rattle.es_semantic.specs.Places.{is_inside}
use Rattle.es_semantic.specs.ScopesOf.{is_function}
use Rattle.es_semantic.specs.SymbolsOf.{hoists}
use Rattle.es_semantic.specs.declared.place.Binding.{Binding}
use Rattle.es_semantic.specs.declared.place.Role.{Role}
use Rattle.es_semantic.specs.declared.place.Role.TheVariants.{Binds}
use Rattle.es_resolution.specs.Declarations.{Bound, symbol_of, has_scope, is_var_scope, reaches_out, is_lexical, own_name, own_declared, declared, declared_in, declared_by, declared_among}
use Rattle.es_resolution.specs.Resolved.{Place, own_by, first_declared, name_frame, with_symbol, class_frame, frame, var_frame, within, within_vars, bound_by, no_name, place_in, parameters_in, OwnRight, IsMarked, Resolved, ResolvedIn, ResolvedBy, ResolvedAll}
use Rattle.es_resolution.specs.Named.{OwnUsed, Named, NamedIn, NamedBy, NamedAll}
use Rattle.es_resolution.specs.Single.{binds, is_var_of, own_binds, one_if, scopes_with, scopes_in, scopes_by, scopes_among}

-- bound by no `var`, and no name of a function expression
pub record Lexically (b : Binding) : Type 0 where
  pub asked : is_lexical b ≡ true
  pub hoists_not : hoists b ≡ false

pub data AlikeRole : Role → Role → Type 0 where
  the_same : {r : Role} → AlikeRole r r
  either : {b c : Binding} → Lexically b → Lexically c → AlikeRole (Binds b) (Binds c)

handed : (b c : Binding) → Lexically b → Lexically c → (k : AstType) (l : Label) (fs : Fields) (i : ℕ) → AlikeRole (role_at (Binds b) k l fs i) (role_at (Binds c) k l fs i)
handed b c g h ExportNamedDeclaration l fs zero = either g h
handed b c g h ExportDefaultDeclaration l fs zero = either g h
handed b c g h VariableDeclarator l fs zero = either g h
handed b c g h ExportSpecifier l fs zero = either g h
handed b c g h ParenthesizedExpression l fs zero = either g h
handed b c g h ObjectPattern l fs zero = either g h
handed b c g h PatternProperty l fs (suc zero) = either g h
handed b c g h ArrayPattern l fs i = either g h
handed b c g h AssignmentPattern l fs zero = either g h
handed b c g h RestElement l fs zero = either g h
handed b c g h ObjectTarget l fs zero = either g h
handed b c g h TargetProperty l fs (suc zero) = either g h
handed b c g h ArrayTarget l fs i = either g h
handed b c g h TargetWithDefault l fs zero = either g h
handed b c g h TargetRest l fs zero = either g h
handed b c g h _ l fs i = the_same

role-alike : {r r' : Role} → AlikeRole r r' → (k : AstType) (l : Label) (fs : Fields) (i : ℕ) → AlikeRole (role_at r k l fs i) (role_at r' k l fs i)
role-alike the_same k l fs i = the_same
role-alike (either {b = b} {c = c} g h) k l fs i = handed b c g h k l fs i

own-alike : (v : Bool) {r r' : Role} → AlikeRole r r' → (k : AstType) (l : Label) → own_declared v r k l ≡ own_declared v r' k l
own-alike v the_same k l = refl
own-alike true (either {b = b} {c = c} g h) Identifier l = λ i. if (g.hoists_not ∙ sym h.hoists_not) i then record { name = first_text l.texts; symbol = symbol_of l } ∷ [] else []
own-alike false (either {b = b} {c = c} g h) Identifier l = λ i. if (g.asked ∙ sym h.asked) i then record { name = first_text l.texts; symbol = symbol_of l } ∷ [] else []
own-alike v (either g h) _ l = refl

name-alike : {r r' : Role} → AlikeRole r r' → (k : AstType) (l : Label) → own_name k r l ≡ own_name k r' l
name-alike the_same k l = refl
name-alike (either g h) Identifier l = refl
name-alike (either g h) _ l = refl

first-alike : {r r' : Role} → AlikeRole r r' → (f : Field) → own_by r f ≡ own_by r' f
first-alike a missing = refl
first-alike a (one (node k l fs)) = name-alike a k l
first-alike a (many ts) = refl
first-alike a (statements ts) = refl

firsts-alike : (rs rs' : ℕ → Role) → ((i : ℕ) → AlikeRole (rs i) (rs' i)) → (fs : Fields) → first_declared rs fs ≡ first_declared rs' fs
firsts-alike rs rs' a done = refl
firsts-alike rs rs' a (f then fs) = first-alike (a zero) f

mutual
  pub declared-alike : (v : Bool) {r r' : Role} → AlikeRole r r' → (t : Tree) → declared v r t ≡ declared v r' t
  declared-alike v {r} {r'} a (node k l fs) = λ i. own-alike v a k l i ++ declared-alike-in v (reaches_out v k) (role_at r k l fs) (role_at r' k l fs) (role-alike a k l fs) fs i

  pub declared-alike-in : (v : Bool) (counts : ℕ → Bool) (rs rs' : ℕ → Role) → ((i : ℕ) → AlikeRole (rs i) (rs' i)) → (fs : Fields) → declared_in v counts rs fs ≡ declared_in v counts rs' fs
  declared-alike-in v counts rs rs' a done = refl
  declared-alike-in v counts rs rs' a (f then fs) = λ i. (if counts zero then declared-alike-by v (a zero) f i else []) ++ declared-alike-in v (λ j. counts (suc j)) (λ j. rs (suc j)) (λ j. rs' (suc j)) (λ j. a (suc j)) fs i

  declared-alike-by : (v : Bool) {r r' : Role} → AlikeRole r r' → (f : Field) → declared_by v r f ≡ declared_by v r' f
  declared-alike-by v a missing = refl
  declared-alike-by v a (one t) = declared-alike v a t
  declared-alike-by v a (many ts) = declared-alike-all v a ts
  declared-alike-by v a (statements ts) = declared-alike-all v a ts

  pub declared-alike-all : (v : Bool) {r r' : Role} → AlikeRole r r' → (ts : Trees) → declared_among v r ts ≡ declared_among v r' ts
  declared-alike-all v a empty = refl
  declared-alike-all v a (t before ts) = λ i. declared-alike v a t i ++ declared-alike-all v a ts i

module _ (k : AstType) (l : Label) (rs rs' : ℕ → Role) (a : (i : ℕ) → AlikeRole (rs i) (rs' i)) (fs : Fields) where
  names-by : (k : AstType) → name_frame k rs fs ≡ name_frame k rs' fs
  names-by FunctionExpression = firsts-alike rs rs' a fs
  names-by _ = refl

  classes-by : (k : AstType) → class_frame k l rs fs ≡ class_frame k l rs' fs
  classes-by ClassDeclaration = λ i. map (with_symbol (symbol_of l)) (firsts-alike rs rs' a fs i)
  classes-by ClassExpression = λ i. map (with_symbol (symbol_of l)) (firsts-alike rs rs' a fs i)
  classes-by _ = refl

  frames : frame k l rs fs ≡ frame k l rs' fs
  frames = λ i. classes-by k i ++ declared-alike-in false (is_inside k) rs rs' a fs i

  vars : var_frame rs fs ≡ var_frame rs' fs
  vars = declared-alike-in true (λ i. true) rs rs' a fs

  params : parameters_in k l rs fs ≡ parameters_in k l rs' fs
  params = λ i. if is_function k then bound_by (frames i) else no_name

  places : (p : Place) → place_in p k l rs fs ≡ place_in p k l rs' fs
  places p = λ j i. record {
    scope = if has_scope k && is_inside k i then within (frames j) (if is_var_scope k then within_vars p.parameters (vars j) (within (names-by k j) p.scope) else within (names-by k j) p.scope) else within (names-by k j) p.scope;
    hoist = if is_var_scope k then (λ x. if p.parameters x then within (names-by k j) p.scope x else within (frames j) (if is_var_scope k then within_vars p.parameters (vars j) (within (names-by k j) p.scope) else within (names-by k j) p.scope) x) else p.hoist;
    parameters = if is_function k then bound_by (frames j) else no_name;
  }

  owns : (s : ℕ) (ps : Text → Bool) → own_binds s ps k l rs fs ≡ own_binds s ps k l rs' fs
  owns s ps = λ i. if has_scope k then binds s (frames i) || (if is_var_scope k then list_any (is_var_of s ps) (vars i) else false) else false

right-alike : (p : Place) {r r' : Role} → AlikeRole r r' → (k : AstType) (l : Label) → OwnRight p r k l → OwnRight p r' k l
right-alike p the_same k l d = d
right-alike p (either {b = b} {c = c} g h) Identifier l d = (d.0 ∙ (λ i. if (g.hoists_not ∙ sym h.hoists_not) i then p.hoist (first_text l.texts) else p.scope (first_text l.texts)), d.1)
right-alike p (either g h) _ l d = tt

mutual
  pub resolved-alike : {r r' : Role} → AlikeRole r r' → (p : Place) (t : Tree) → Resolved r p t → Resolved r' p t
  resolved-alike {r} {r'} a p (node k l fs) d = (
    right-alike p a k l d.0,
    subst (λ (bs : List Bound). IsMarked bs) (classes-by k l (role_at r k l fs) (role_at r' k l fs) (role-alike a k l fs) fs k) d.1,
    subst (λ (ps : ℕ → Place). ResolvedIn (role_at r' k l fs) ps fs) (places k l (role_at r k l fs) (role_at r' k l fs) (role-alike a k l fs) fs p) (resolved-alike-in (role_at r k l fs) (role_at r' k l fs) (role-alike a k l fs) (place_in p k l (role_at r k l fs) fs) fs d.2),
  )

  resolved-alike-in : (rs rs' : ℕ → Role) → ((i : ℕ) → AlikeRole (rs i) (rs' i)) → (ps : ℕ → Place) (fs : Fields) → ResolvedIn rs ps fs → ResolvedIn rs' ps fs
  resolved-alike-in rs rs' a ps done d = tt
  resolved-alike-in rs rs' a ps (f then fs) d = (resolved-alike-by (a zero) (ps zero) f d.0, resolved-alike-in (λ i. rs (suc i)) (λ i. rs' (suc i)) (λ i. a (suc i)) (λ i. ps (suc i)) fs d.1)

  resolved-alike-by : {r r' : Role} → AlikeRole r r' → (p : Place) (f : Field) → ResolvedBy r p f → ResolvedBy r' p f
  resolved-alike-by a p missing d = tt
  resolved-alike-by a p (one t) d = resolved-alike a p t d
  resolved-alike-by a p (many ts) d = resolved-alike-all a p ts d
  resolved-alike-by a p (statements ts) d = resolved-alike-all a p ts d

  pub resolved-alike-all : {r r' : Role} → AlikeRole r r' → (p : Place) (ts : Trees) → ResolvedAll r p ts → ResolvedAll r' p ts
  resolved-alike-all a p empty d = tt
  resolved-alike-all a p (t before ts) d = (resolved-alike a p t d.0, resolved-alike-all a p ts d.1)

used-alike : (u : Text → Bool) {r r' : Role} → AlikeRole r r' → (k : AstType) (l : Label) → OwnUsed u r k l → OwnUsed u r' k l
used-alike u the_same k l d = d
used-alike u (either g h) Identifier l d = d
used-alike u (either g h) _ l d = tt

mutual
  pub named-alike : (u : Text → Bool) (f : ℕ) {r r' : Role} → AlikeRole r r' → (t : Tree) → Named u f r t → Named u f r' t
  named-alike u f {r} {r'} a (node k l fs) d = ((used-alike u a k l d.0.0, d.0.1), named-alike-in u f (role_at r k l fs) (role_at r' k l fs) (role-alike a k l fs) fs d.1)

  named-alike-in : (u : Text → Bool) (f : ℕ) (rs rs' : ℕ → Role) → ((i : ℕ) → AlikeRole (rs i) (rs' i)) → (fs : Fields) → NamedIn u f rs fs → NamedIn u f rs' fs
  named-alike-in u f rs rs' a done d = tt
  named-alike-in u f rs rs' a (w then fs) d = (named-alike-by u f (a zero) w d.0, named-alike-in u f (λ i. rs (suc i)) (λ i. rs' (suc i)) (λ i. a (suc i)) fs d.1)

  named-alike-by : (u : Text → Bool) (f : ℕ) {r r' : Role} → AlikeRole r r' → (w : Field) → NamedBy u f r w → NamedBy u f r' w
  named-alike-by u f a missing d = tt
  named-alike-by u f a (one t) d = named-alike u f a t d
  named-alike-by u f a (many ts) d = named-alike-all u f a ts d
  named-alike-by u f a (statements ts) d = named-alike-all u f a ts d

  named-alike-all : (u : Text → Bool) (f : ℕ) {r r' : Role} → AlikeRole r r' → (ts : Trees) → NamedAll u f r ts → NamedAll u f r' ts
  named-alike-all u f a empty d = tt
  named-alike-all u f a (t before ts) d = (named-alike u f a t d.0, named-alike-all u f a ts d.1)

mutual
  pub scopes-alike : (s : ℕ) (ps : Text → Bool) {r r' : Role} → AlikeRole r r' → (t : Tree) → scopes_with s ps r t ≡ scopes_with s ps r' t
  scopes-alike s ps {r} {r'} a (node k l fs) = λ i.
      one_if (binds s (names-by k l (role_at r k l fs) (role_at r' k l fs) (role-alike a k l fs) fs k i)) + one_if (owns k l (role_at r k l fs) (role_at r' k l fs) (role-alike a k l fs) fs s ps i) +
      (ap (λ z. scopes_in s z (role_at r k l fs) fs) (params k l (role_at r k l fs) (role_at r' k l fs) (role-alike a k l fs) fs) ∙ scopes-alike-in s (parameters_in k l (role_at r' k l fs) fs) (role_at r k l fs) (role_at r' k l fs) (role-alike a k l fs) fs) i

  scopes-alike-in : (s : ℕ) (ps : Text → Bool) (rs rs' : ℕ → Role) → ((i : ℕ) → AlikeRole (rs i) (rs' i)) → (fs : Fields) → scopes_in s ps rs fs ≡ scopes_in s ps rs' fs
  scopes-alike-in s ps rs rs' a done = refl
  scopes-alike-in s ps rs rs' a (f then fs) = λ i. scopes-alike-by s ps (a zero) f i + scopes-alike-in s ps (λ j. rs (suc j)) (λ j. rs' (suc j)) (λ j. a (suc j)) fs i

  scopes-alike-by : (s : ℕ) (ps : Text → Bool) {r r' : Role} → AlikeRole r r' → (f : Field) → scopes_by s ps r f ≡ scopes_by s ps r' f
  scopes-alike-by s ps a missing = refl
  scopes-alike-by s ps a (one t) = scopes-alike s ps a t
  scopes-alike-by s ps a (many ts) = scopes-alike-all s ps a ts
  scopes-alike-by s ps a (statements ts) = scopes-alike-all s ps a ts

  scopes-alike-all : (s : ℕ) (ps : Text → Bool) {r r' : Role} → AlikeRole r r' → (ts : Trees) → scopes_among s ps r ts ≡ scopes_among s ps r' ts
  scopes-alike-all s ps a empty = refl
  scopes-alike-all s ps a (t before ts) = λ i. scopes-alike s ps a t i + scopes-alike-all s ps a ts i
