-- What is declared by one word, and afterwards by another: where names find the same as what a `var` of their names declares, it is as resolved as before.
use Rattle.std.proofs.Common.{◌+◌, ◌≡◌, ℕ, zero, suc, refl, sym, ap, subst, ◌∙◌, List, [], ◌∷◌, ◌++◌}
use Rattle.std.specs.Prelude.{Bool, true, false, not, ◌&&◌, ◌||◌, Option, if◌then◌else◌}
use Rattle.std.specs.List.{list_any}
use Rattle.std.proofs.lemmas.List.Folds.{list_any-append}
use Rattle.es_tree.specs.Words.{Text}
use Rattle.es_tree.specs.Names.{first_text}
use Rattle.es_tree.specs.Tree.{Tree, node, Label, Fields, done, ◌then◌, Field, missing, one, many, statements, Trees, empty, ◌before◌}
use Rattle.es_tree.specs.declared.ast_type.AstType.{AstType}
use Rattle.es_tree.specs.declared.ast_type.AstType.TheVariants.{ArrayPattern, ArrayTarget, AssignmentPattern, ExportDefaultDeclaration, ExportNamedDeclaration, ExportSpecifier, Identifier, ObjectPattern, ObjectTarget, ParenthesizedExpression, PatternProperty, RestElement, TargetProperty, TargetRest, TargetWithDefault, VariableDeclarator}
use Rattle.es_semantic.specs.RolesOf.{role_at}
use Rattle.es_semantic.specs.Places.{is_inside}
use Rattle.es_semantic.specs.ScopesOf.{is_function}
use Rattle.es_semantic.specs.SymbolsOf.{hoists}
use Rattle.es_semantic.specs.declared.place.Binding.{Binding}
use Rattle.es_semantic.specs.declared.place.Role.{Role}
use Rattle.es_semantic.specs.declared.place.Role.TheVariants.{Binds}
use Rattle.es_resolution.specs.Declarations.{Bound, symbol_of, has_scope, is_var_scope, is_lexical, reaches_out, own_declared, declared, declared_in, declared_by, declared_among}
use Rattle.es_resolution.specs.Named.{OwnUsed, Named, NamedIn, NamedBy, NamedAll}
use Rattle.es_resolution.specs.Resolved.{Place, name_frame, class_frame, frame, inner, hoisting, bound_by, within, no_name, place_in, parameters_in, OwnRight, IsMarked, var_frame, Resolved, ResolvedIn, ResolvedBy, ResolvedAll}
use Rattle.es_resolution.specs.Single.{binds, is_var_of, own_binds, one_if, scopes_with, scopes_in, scopes_by, scopes_among}
use Rattle.es_steps.proofs.Kept.{every}

-- by this word a declaration declares
abbrev pub declares : Binding → Bool
declares b = is_lexical b || hoists b

pub data Shift : Role → Role → Type 0 where
  stays : {r : Role} → Shift r r
  shifts : {b c : Binding} → declares b ≡ true → declares c ≡ true → Shift (Binds b) (Binds c)

-- where names find what `var` declares
abbrev pub flat : (Text → Option ℕ) → (Text → Bool) → Place
flat S ps = record { scope = S; hoist = S; parameters = ps }

-- KINDS that hand on what they are

abbrev is_handing : AstType → Bool
is_handing ExportNamedDeclaration = true
is_handing ExportDefaultDeclaration = true
is_handing VariableDeclarator = true
is_handing ExportSpecifier = true
is_handing ParenthesizedExpression = true
is_handing ObjectPattern = true
is_handing PatternProperty = true
is_handing ArrayPattern = true
is_handing AssignmentPattern = true
is_handing RestElement = true
is_handing ObjectTarget = true
is_handing TargetProperty = true
is_handing ArrayTarget = true
is_handing TargetWithDefault = true
is_handing TargetRest = true
is_handing _ = false

module _ (b c : Binding) (g : declares b ≡ true) (h : declares c ≡ true) where
  handed : (k : AstType) (l : Label) (fs : Fields) (i : ℕ) → Shift (role_at (Binds b) k l fs i) (role_at (Binds c) k l fs i)
  handed ExportNamedDeclaration l fs zero = shifts g h
  handed ExportDefaultDeclaration l fs zero = shifts g h
  handed VariableDeclarator l fs zero = shifts g h
  handed ExportSpecifier l fs zero = shifts g h
  handed ParenthesizedExpression l fs zero = shifts g h
  handed ObjectPattern l fs zero = shifts g h
  handed PatternProperty l fs (suc zero) = shifts g h
  handed ArrayPattern l fs i = shifts g h
  handed AssignmentPattern l fs zero = shifts g h
  handed RestElement l fs zero = shifts g h
  handed ObjectTarget l fs zero = shifts g h
  handed TargetProperty l fs (suc zero) = shifts g h
  handed ArrayTarget l fs i = shifts g h
  handed TargetWithDefault l fs zero = shifts g h
  handed TargetRest l fs zero = shifts g h
  handed _ l fs i = stays

  -- elsewhere what stands in a node is what it was
  same-roles : (k : AstType) (l : Label) (fs : Fields) → is_handing k ≡ false → role_at (Binds b) k l fs ≡ role_at (Binds c) k l fs
  same-roles ExportNamedDeclaration l fs e = absurd (cc e)
  same-roles ExportDefaultDeclaration l fs e = absurd (cc e)
  same-roles VariableDeclarator l fs e = absurd (cc e)
  same-roles ExportSpecifier l fs e = absurd (cc e)
  same-roles ParenthesizedExpression l fs e = absurd (cc e)
  same-roles ObjectPattern l fs e = absurd (cc e)
  same-roles PatternProperty l fs e = absurd (cc e)
  same-roles ArrayPattern l fs e = absurd (cc e)
  same-roles AssignmentPattern l fs e = absurd (cc e)
  same-roles RestElement l fs e = absurd (cc e)
  same-roles ObjectTarget l fs e = absurd (cc e)
  same-roles TargetProperty l fs e = absurd (cc e)
  same-roles ArrayTarget l fs e = absurd (cc e)
  same-roles TargetWithDefault l fs e = absurd (cc e)
  same-roles TargetRest l fs e = absurd (cc e)
  same-roles _ l fs e = refl

  -- an identifier
  same-found : (v w : Bool) (a o : Option ℕ) → o ≡ (if v then a else a) → o ≡ (if w then a else a)
  same-found true true a o e = e
  same-found true false a o e = e
  same-found false true a o e = e
  same-found false false a o e = e

  own-right : (S : Text → Option ℕ) (ps : Text → Bool) (k : AstType) (l : Label) → OwnRight (flat S ps) (Binds b) k l → OwnRight (flat S ps) (Binds c) k l
  own-right S ps Identifier l d = (same-found (hoists b) (hoists c) (S (first_text l.texts)) (symbol_of l) d.0, d.1)
  own-right S ps _ l d = tt

  own-used : (u : Text → Bool) (k : AstType) (l : Label) → OwnUsed u (Binds b) k l → OwnUsed u (Binds c) k l
  own-used u Identifier l d = d
  own-used u _ l d = tt

-- they make no scope
record IsFlat (k : AstType) : Type 0 where
  scope : has_scope k ≡ false
  var : is_var_scope k ≡ false
  function : is_function k ≡ false
  name : (roles : ℕ → Role) (fs : Fields) → name_frame k roles fs ≡ []
  class : (l : Label) (roles : ℕ → Role) (fs : Fields) → class_frame k l roles fs ≡ []

handing-flat : (k : AstType) → is_handing k ≡ true → IsFlat k
handing-flat ExportNamedDeclaration e = record { scope = refl; var = refl; function = refl; name = λ rs fs. refl; class = λ l rs fs. refl }
handing-flat ExportDefaultDeclaration e = record { scope = refl; var = refl; function = refl; name = λ rs fs. refl; class = λ l rs fs. refl }
handing-flat VariableDeclarator e = record { scope = refl; var = refl; function = refl; name = λ rs fs. refl; class = λ l rs fs. refl }
handing-flat ExportSpecifier e = record { scope = refl; var = refl; function = refl; name = λ rs fs. refl; class = λ l rs fs. refl }
handing-flat ParenthesizedExpression e = record { scope = refl; var = refl; function = refl; name = λ rs fs. refl; class = λ l rs fs. refl }
handing-flat ObjectPattern e = record { scope = refl; var = refl; function = refl; name = λ rs fs. refl; class = λ l rs fs. refl }
handing-flat PatternProperty e = record { scope = refl; var = refl; function = refl; name = λ rs fs. refl; class = λ l rs fs. refl }
handing-flat ArrayPattern e = record { scope = refl; var = refl; function = refl; name = λ rs fs. refl; class = λ l rs fs. refl }
handing-flat AssignmentPattern e = record { scope = refl; var = refl; function = refl; name = λ rs fs. refl; class = λ l rs fs. refl }
handing-flat RestElement e = record { scope = refl; var = refl; function = refl; name = λ rs fs. refl; class = λ l rs fs. refl }
handing-flat ObjectTarget e = record { scope = refl; var = refl; function = refl; name = λ rs fs. refl; class = λ l rs fs. refl }
handing-flat TargetProperty e = record { scope = refl; var = refl; function = refl; name = λ rs fs. refl; class = λ l rs fs. refl }
handing-flat ArrayTarget e = record { scope = refl; var = refl; function = refl; name = λ rs fs. refl; class = λ l rs fs. refl }
handing-flat TargetWithDefault e = record { scope = refl; var = refl; function = refl; name = λ rs fs. refl; class = λ l rs fs. refl }
handing-flat TargetRest e = record { scope = refl; var = refl; function = refl; name = λ rs fs. refl; class = λ l rs fs. refl }
handing-flat _ e = absurd (cc e)

flat-places : (S : Text → Option ℕ) (ps : Text → Bool) (k : AstType) (l : Label) (roles : ℕ → Role) (fs : Fields) → IsFlat k → place_in (flat S ps) k l roles fs ≡ (λ i. flat S no_name)
flat-places S ps k l roles fs h = λ j i. record {
  scope = if h.scope j && is_inside k i then inner (flat S ps) k l roles fs else within (h.name roles fs j) S;
  hoist = if h.var j then hoisting (flat S ps) k l roles fs else S;
  parameters = if h.function j then bound_by (frame k l roles fs) else no_name;
}

-- IT IS RESOLVED

module _ (b c : Binding) (g : declares b ≡ true) (h : declares c ≡ true) (S : Text → Option ℕ) (ps : Text → Bool) (k : AstType) (l : Label) (fs : Fields) where
  abbrev rs : ℕ → Role
  rs = role_at (Binds b) k l fs

  abbrev rs' : ℕ → Role
  rs' = role_at (Binds c) k l fs

  shift-node : (v : Bool) → is_handing k ≡ v → (ResolvedIn rs (λ i. flat S no_name) fs → ResolvedIn rs' (λ i. flat S no_name) fs) → Resolved (Binds b) (flat S ps) (node k l fs) → Resolved (Binds c) (flat S ps) (node k l fs)
  shift-node true e rest d =
      let z = handing-flat k e in (
        own-right b c g h S ps k l d.0,
        subst (λ (bs : List Bound). IsMarked bs) (sym (z.class l rs' fs)) refl,
        subst (λ (places : ℕ → Place). ResolvedIn rs' places fs) (sym (flat-places S ps k l rs' fs z)) (rest (subst (λ (places : ℕ → Place). ResolvedIn rs places fs) (flat-places S ps k l rs fs z) d.2)),
      )
  shift-node false e rest d =
      let z = same-roles b c g h k l fs e in (
        own-right b c g h S ps k l d.0,
        subst (λ (roles : ℕ → Role). IsMarked (class_frame k l roles fs)) z d.1,
        subst (λ (roles : ℕ → Role). ResolvedIn roles (place_in (flat S ps) k l roles fs) fs) z d.2,
      )

mutual
  pub resolved-shift : {r r' : Role} → Shift r r' → (S : Text → Option ℕ) (ps : Text → Bool) (t : Tree) → Resolved r (flat S ps) t → Resolved r' (flat S ps) t
  resolved-shift stays S ps (node k l fs) d = d
  resolved-shift (shifts {b = b} {c = c} g h) S ps (node k l fs) d = shift-node b c g h S ps k l fs (is_handing k) refl (λ e. resolved-shift-in (role_at (Binds b) k l fs) (role_at (Binds c) k l fs) (handed b c g h k l fs) S no_name fs e) d

  resolved-shift-in : (rs rs' : ℕ → Role) → ((i : ℕ) → Shift (rs i) (rs' i)) → (S : Text → Option ℕ) (ps : Text → Bool) (fs : Fields) → ResolvedIn rs (λ i. flat S ps) fs → ResolvedIn rs' (λ i. flat S ps) fs
  resolved-shift-in rs rs' a S ps done d = tt
  resolved-shift-in rs rs' a S ps (f then fs) d = (resolved-shift-by (a zero) S ps f d.0, resolved-shift-in (λ i. rs (suc i)) (λ i. rs' (suc i)) (λ i. a (suc i)) S ps fs d.1)

  resolved-shift-by : {r r' : Role} → Shift r r' → (S : Text → Option ℕ) (ps : Text → Bool) (f : Field) → ResolvedBy r (flat S ps) f → ResolvedBy r' (flat S ps) f
  resolved-shift-by a S ps missing d = tt
  resolved-shift-by a S ps (one t) d = resolved-shift a S ps t d
  resolved-shift-by a S ps (many ts) d = resolved-shift-all a S ps ts d
  resolved-shift-by a S ps (statements ts) d = resolved-shift-all a S ps ts d

  pub resolved-shift-all : {r r' : Role} → Shift r r' → (S : Text → Option ℕ) (ps : Text → Bool) (ts : Trees) → ResolvedAll r (flat S ps) ts → ResolvedAll r' (flat S ps) ts
  resolved-shift-all a S ps empty d = tt
  resolved-shift-all a S ps (t before ts) d = (resolved-shift a S ps t d.0, resolved-shift-all a S ps ts d.1)

-- ITS NAMES are in use

shift-used : (u : Text → Bool) {r r' : Role} → Shift r r' → (k : AstType) (l : Label) → OwnUsed u r k l → OwnUsed u r' k l
shift-used u stays k l d = d
shift-used u (shifts {b = b} {c = c} g h) k l d = own-used b c g h u k l d

role-shift : {r r' : Role} → Shift r r' → (k : AstType) (l : Label) (fs : Fields) (i : ℕ) → Shift (role_at r k l fs i) (role_at r' k l fs i)
role-shift stays k l fs i = stays
role-shift (shifts {b = b} {c = c} g h) k l fs i = handed b c g h k l fs i

mutual
  pub named-shift : (u : Text → Bool) (f : ℕ) {r r' : Role} → Shift r r' → (t : Tree) → Named u f r t → Named u f r' t
  named-shift u f {r} {r'} a (node k l fs) d = ((shift-used u a k l d.0.0, d.0.1), named-shift-in u f (role_at r k l fs) (role_at r' k l fs) (role-shift a k l fs) fs d.1)

  named-shift-in : (u : Text → Bool) (f : ℕ) (rs rs' : ℕ → Role) → ((i : ℕ) → Shift (rs i) (rs' i)) → (fs : Fields) → NamedIn u f rs fs → NamedIn u f rs' fs
  named-shift-in u f rs rs' a done d = tt
  named-shift-in u f rs rs' a (w then fs) d = (named-shift-by u f (a zero) w d.0, named-shift-in u f (λ i. rs (suc i)) (λ i. rs' (suc i)) (λ i. a (suc i)) fs d.1)

  named-shift-by : (u : Text → Bool) (f : ℕ) {r r' : Role} → Shift r r' → (w : Field) → NamedBy u f r w → NamedBy u f r' w
  named-shift-by u f a missing d = tt
  named-shift-by u f a (one t) d = named-shift u f a t d
  named-shift-by u f a (many ts) d = named-shift-all u f a ts d
  named-shift-by u f a (statements ts) d = named-shift-all u f a ts d

  pub named-shift-all : (u : Text → Bool) (f : ℕ) {r r' : Role} → Shift r r' → (ts : Trees) → NamedAll u f r ts → NamedAll u f r' ts
  named-shift-all u f a empty d = tt
  named-shift-all u f a (t before ts) d = (named-shift u f a t d.0, named-shift-all u f a ts d.1)

-- ITS SCOPES bind what they bound

node-scopes : (s : ℕ) (ps : Text → Bool) (b c : Binding) (g : declares b ≡ true) (h : declares c ≡ true) (k : AstType) (l : Label) (fs : Fields) (v : Bool) → is_handing k ≡ v → scopes_in s no_name (role_at (Binds b) k l fs) fs ≡ scopes_in s no_name (role_at (Binds c) k l fs) fs →
    scopes_with s ps (Binds b) (node k l fs) ≡ scopes_with s ps (Binds c) (node k l fs)
node-scopes s ps b c g h k l fs true e rest = flattened (role_at (Binds b) k l fs) ∙ ap (λ n. 0 + 0 + n) rest ∙ sym (flattened (role_at (Binds c) k l fs))
  where
    z : IsFlat k
    z = handing-flat k e

    flattened : (roles : ℕ → Role) → one_if (binds s (name_frame k roles fs)) + one_if (own_binds s ps k l roles fs) + scopes_in s (parameters_in k l roles fs) roles fs ≡ 0 + 0 + scopes_in s no_name roles fs
    flattened roles = λ i. one_if (binds s (z.name roles fs i)) + one_if (if z.scope i then binds s (frame k l roles fs) || (if is_var_scope k then list_any (is_var_of s ps) (var_frame roles fs) else false) else false) + scopes_in s (if z.function i then bound_by (frame k l roles fs) else no_name) roles fs
node-scopes s ps b c g h k l fs false e rest = λ i. one_if (binds s (name_frame k (same-roles b c g h k l fs e i) fs)) + one_if (own_binds s ps k l (same-roles b c g h k l fs e i) fs) + scopes_in s (parameters_in k l (same-roles b c g h k l fs e i) fs) (same-roles b c g h k l fs e i) fs

mutual
  pub scopes-shift : (s : ℕ) (ps : Text → Bool) {r r' : Role} → Shift r r' → (t : Tree) → scopes_with s ps r t ≡ scopes_with s ps r' t
  scopes-shift s ps stays (node k l fs) = refl
  scopes-shift s ps (shifts {b = b} {c = c} g h) (node k l fs) = node-scopes s ps b c g h k l fs (is_handing k) refl (scopes-shift-in s no_name (role_at (Binds b) k l fs) (role_at (Binds c) k l fs) (handed b c g h k l fs) fs)

  scopes-shift-in : (s : ℕ) (ps : Text → Bool) (rs rs' : ℕ → Role) → ((i : ℕ) → Shift (rs i) (rs' i)) → (fs : Fields) → scopes_in s ps rs fs ≡ scopes_in s ps rs' fs
  scopes-shift-in s ps rs rs' a done = refl
  scopes-shift-in s ps rs rs' a (f then fs) = λ i. scopes-shift-by s ps (a zero) f i + scopes-shift-in s ps (λ j. rs (suc j)) (λ j. rs' (suc j)) (λ j. a (suc j)) fs i

  scopes-shift-by : (s : ℕ) (ps : Text → Bool) {r r' : Role} → Shift r r' → (f : Field) → scopes_by s ps r f ≡ scopes_by s ps r' f
  scopes-shift-by s ps a missing = refl
  scopes-shift-by s ps a (one t) = scopes-shift s ps a t
  scopes-shift-by s ps a (many ts) = scopes-shift-all s ps a ts
  scopes-shift-by s ps a (statements ts) = scopes-shift-all s ps a ts

  pub scopes-shift-all : (s : ℕ) (ps : Text → Bool) {r r' : Role} → Shift r r' → (ts : Trees) → scopes_among s ps r ts ≡ scopes_among s ps r' ts
  scopes-shift-all s ps a empty = refl
  scopes-shift-all s ps a (t before ts) = λ i. scopes-shift s ps a t i + scopes-shift-all s ps a ts i

-- IT DECLARES THE SAME NAMES, by `var` or in another way

abbrev pub in_both : (Bound → Bool) → List Bound → List Bound → Bool
in_both q bs cs = list_any q bs || list_any q cs

or-mix : (a b c d : Bool) → ((a || b) || (c || d)) ≡ ((a || c) || (b || d))
or-mix true b c d = refl
or-mix false true true d = refl
or-mix false true false d = refl
or-mix false false c d = refl

-- of lists, one after the other
pub both-append : (q : Bound → Bool) (bs bs' cs cs' : List Bound) → in_both q (bs ++ bs') (cs ++ cs') ≡ (in_both q bs cs || in_both q bs' cs')
both-append q bs bs' cs cs' = (λ i. list_any-append q bs bs' i || list_any-append q cs cs' i) ∙ or-mix (list_any q bs) (list_any q bs') (list_any q cs) (list_any q cs')

either-way : (q : Bound → Bool) (bs : List Bound) (v w : Bool) → (v || w) ≡ true → in_both q (if v then bs else []) (if w then bs else []) ≡ list_any q bs
either-way q bs true true e = twice (list_any q bs)
  where
    twice : (a : Bool) → (a || a) ≡ a
    twice true = refl
    twice false = refl
either-way q bs true false e = nothing (list_any q bs)
  where
    nothing : (a : Bool) → (a || false) ≡ a
    nothing true = refl
    nothing false = refl
either-way q bs false true e = refl
either-way q bs false false e = absurd (cc e)

own-both : (q : Bound → Bool) (b c : Binding) → declares b ≡ true → declares c ≡ true → (k : AstType) (l : Label) → in_both q (own_declared false (Binds b) k l) (own_declared true (Binds b) k l) ≡ in_both q (own_declared false (Binds c) k l) (own_declared true (Binds c) k l)
own-both q b c g h Identifier l =
    let it : List Bound = record { name = first_text l.texts; symbol = symbol_of l } ∷ [] in
    either-way q it (is_lexical b) (hoists b) g ∙ sym (either-way q it (is_lexical c) (hoists c) h)
own-both q b c g h _ l = refl

handing-reaches : (v : Bool) (k : AstType) → is_handing k ≡ true → reaches_out v k ≡ every
handing-reaches true k e = λ j i. not ((handing-flat k e).var j)
handing-reaches false k e = λ j i. not ((handing-flat k e).scope j && is_inside k i)

abbrev both_in : (Bound → Bool) → (ℕ → Role) → Fields → Bool
both_in q roles fs = in_both q (declared_in false every roles fs) (declared_in true every roles fs)

module _ (q : Bound → Bool) (k : AstType) (l : Label) (fs : Fields) where
  abbrev theirs : Binding → Bool → List Bound
  theirs b v = declared_in v (reaches_out v k) (role_at (Binds b) k l fs) fs

  parts : (b : Binding) → in_both q (declared false (Binds b) (node k l fs)) (declared true (Binds b) (node k l fs)) ≡ (in_both q (own_declared false (Binds b) k l) (own_declared true (Binds b) k l) || in_both q (theirs b false) (theirs b true))
  parts b = both-append q (own_declared false (Binds b) k l) (theirs b false) (own_declared true (Binds b) k l) (theirs b true)

  handing : (b : Binding) → is_handing k ≡ true → in_both q (theirs b false) (theirs b true) ≡ both_in q (role_at (Binds b) k l fs) fs
  handing b e = λ i. in_both q (declared_in false (handing-reaches false k e i) (role_at (Binds b) k l fs) fs) (declared_in true (handing-reaches true k e i) (role_at (Binds b) k l fs) fs)

  module _ (b c : Binding) (g : declares b ≡ true) (h : declares c ≡ true) where
    fields-both : (v : Bool) → is_handing k ≡ v → both_in q (role_at (Binds b) k l fs) fs ≡ both_in q (role_at (Binds c) k l fs) fs → in_both q (theirs b false) (theirs b true) ≡ in_both q (theirs c false) (theirs c true)
    fields-both true e rest = handing b e ∙ rest ∙ sym (handing c e)
    fields-both false e rest = λ i. in_both q (declared_in false (reaches_out false k) (same-roles b c g h k l fs e i) fs) (declared_in true (reaches_out true k) (same-roles b c g h k l fs e i) fs)

    node-both : both_in q (role_at (Binds b) k l fs) fs ≡ both_in q (role_at (Binds c) k l fs) fs → in_both q (declared false (Binds b) (node k l fs)) (declared true (Binds b) (node k l fs)) ≡ in_both q (declared false (Binds c) (node k l fs)) (declared true (Binds c) (node k l fs))
    node-both rest = parts b ∙ (λ i. own-both q b c g h k l i || fields-both (is_handing k) refl rest i) ∙ sym (parts c)

mutual
  pub both-shift : (q : Bound → Bool) {r r' : Role} → Shift r r' → (t : Tree) → in_both q (declared false r t) (declared true r t) ≡ in_both q (declared false r' t) (declared true r' t)
  both-shift q stays (node k l fs) = refl
  both-shift q (shifts {b = b} {c = c} g h) (node k l fs) = node-both q k l fs b c g h (both-shift-in q (role_at (Binds b) k l fs) (role_at (Binds c) k l fs) (handed b c g h k l fs) fs)

  both-shift-in : (q : Bound → Bool) (rs rs' : ℕ → Role) → ((i : ℕ) → Shift (rs i) (rs' i)) → (fs : Fields) → both_in q rs fs ≡ both_in q rs' fs
  both-shift-in q rs rs' a done = refl
  both-shift-in q rs rs' a (f then fs) =
      both-append q (declared_by false (rs zero) f) (declared_in false every (λ j. rs (suc j)) fs) (declared_by true (rs zero) f) (declared_in true every (λ j. rs (suc j)) fs)
      ∙ (λ i. both-shift-by q (a zero) f i || both-shift-in q (λ j. rs (suc j)) (λ j. rs' (suc j)) (λ j. a (suc j)) fs i)
      ∙ sym (both-append q (declared_by false (rs' zero) f) (declared_in false every (λ j. rs' (suc j)) fs) (declared_by true (rs' zero) f) (declared_in true every (λ j. rs' (suc j)) fs))

  both-shift-by : (q : Bound → Bool) {r r' : Role} → Shift r r' → (f : Field) → in_both q (declared_by false r f) (declared_by true r f) ≡ in_both q (declared_by false r' f) (declared_by true r' f)
  both-shift-by q a missing = refl
  both-shift-by q a (one t) = both-shift q a t
  both-shift-by q a (many ts) = both-shift-all q a ts
  both-shift-by q a (statements ts) = both-shift-all q a ts

  pub both-shift-all : (q : Bound → Bool) {r r' : Role} → Shift r r' → (ts : Trees) → in_both q (declared_among false r ts) (declared_among true r ts) ≡ in_both q (declared_among false r' ts) (declared_among true r' ts)
  both-shift-all q a empty = refl
  both-shift-all q {r} {r'} a (t before ts) =
      both-append q (declared false r t) (declared_among false r ts) (declared true r t) (declared_among true r ts)
      ∙ (λ i. both-shift q a t i || both-shift-all q a ts i)
      ∙ sym (both-append q (declared false r' t) (declared_among false r' ts) (declared true r' t) (declared_among true r' ts))
