-- A part of a program moves: where each of its nodes passed the test of placed nodes, each does at its new site, if the names that are
-- asked for find the same from there, and a chain that the part is can be lowered there too.
use Rattle.std.proofs.Common.{◌≡◌, ◌&&◌, ◌||◌, ℕ, zero, suc, Bool, true, false, List, refl, sym, ap, subst, ◌∙◌, true≢false}
use Rattle.std.specs.Prelude.{Option, codes, is_some, not, if◌then◌else◌}
use Rattle.std.proofs.lemmas.Bool.{and_parts, and_from}
use Rattle.es_tree.specs.Words.{Text}
use Rattle.es_tree.specs.Ancestors.{ancestor, leads_by}
use Rattle.es_tree.specs.Constructs.{is_exponentiation}
use Rattle.es_tree.specs.Names.{first_text}
use Rattle.es_tree.specs.Tree.{Tree, node, Label, Fields, done, ◌then◌, Field, missing, one, many, statements, Trees, empty, ◌before◌}
use Rattle.es_tree.specs.declared.ast_type.AstType.{AstType}
use Rattle.es_tree.specs.declared.ast_type.AstType.TheVariants.{ArrayPattern, ArrayTarget, AssignmentPattern, ChainExpression, ExportDefaultDeclaration, ExportNamedDeclaration, ExportSpecifier, FunctionDeclaration, MemberExpression, MethodDefinition, ObjectPattern, ObjectTarget, ParenthesizedExpression, PatternProperty, RestElement, TargetProperty, TargetRest, TargetWithDefault, UnaryExpression, VariableDeclarator}
use Rattle.es_tree.specs.declared.options.EnvOptions.{EnvOptions}
use Rattle.es_runs.specs.Alike.{Level, Need, content_level, needs, unary_need}
use Rattle.es_runs.specs.Core.{UnaryClass, unary_class}
use Rattle.es_runs.specs.OptionalChaining.{is_chain_kind, takes_value}
use Rattle.es_semantic.specs.Places.{is_inside}
use Rattle.es_semantic.specs.RolesOf.{role_at}
use Rattle.es_semantic.specs.declared.place.Role.{Role}
use Rattle.es_resolution.specs.Declarations.{declared_in, sought}
use Rattle.es_resolution.specs.Resolved.{Place, place_in, within}
use Rattle.es_steps.specs.Open.{OpenFields, finished_fields, is_body, is_statement_body, opened_fields}
use Rattle.es_steps.specs.Steps.{Site, outline, site_in}
use Rattle.es_steps.proofs.Sites.{AgreeOnUsed, PlacesAlike, place-inwards}
use Rattle.es_changes.specs.Rules.{is_asked_for}
use Rattle.es_conditions.specs.CoreConditions.{accepts_chain, body_site, each_passes, each_passes_among, each_passes_by, each_passes_in, is_chain_placed, is_copied, is_copy_free, is_placed, is_power_free, is_taken_over, is_unbound_if, takes_over}

-- NAMES: what those that are asked for find in a field doesn't depend on the node's role

-- whether the roles of a node's fields are the same whatever its own role
abbrev has_fixed_roles : AstType → Bool
has_fixed_roles ExportNamedDeclaration = false
has_fixed_roles ExportDefaultDeclaration = false
has_fixed_roles VariableDeclarator = false
has_fixed_roles FunctionDeclaration = false
has_fixed_roles MethodDefinition = false
has_fixed_roles ExportSpecifier = false
has_fixed_roles ParenthesizedExpression = false
has_fixed_roles ObjectPattern = false
has_fixed_roles PatternProperty = false
has_fixed_roles ArrayPattern = false
has_fixed_roles AssignmentPattern = false
has_fixed_roles RestElement = false
has_fixed_roles ObjectTarget = false
has_fixed_roles TargetProperty = false
has_fixed_roles ArrayTarget = false
has_fixed_roles TargetWithDefault = false
has_fixed_roles TargetRest = false
has_fixed_roles _ = true

module _ (r r' : Role) (l : Label) (fs : Fields) where
  fixed-role : (k : AstType) (i : ℕ) → has_fixed_roles k ≡ true → role_at r' k l fs i ≡ role_at r k l fs i
  fixed-role ExportNamedDeclaration i e = absurd (true≢false (sym e))
  fixed-role ExportDefaultDeclaration i e = absurd (true≢false (sym e))
  fixed-role VariableDeclarator i e = absurd (true≢false (sym e))
  fixed-role FunctionDeclaration i e = absurd (true≢false (sym e))
  fixed-role MethodDefinition i e = absurd (true≢false (sym e))
  fixed-role ExportSpecifier i e = absurd (true≢false (sym e))
  fixed-role ParenthesizedExpression i e = absurd (true≢false (sym e))
  fixed-role ObjectPattern i e = absurd (true≢false (sym e))
  fixed-role PatternProperty i e = absurd (true≢false (sym e))
  fixed-role ArrayPattern i e = absurd (true≢false (sym e))
  fixed-role AssignmentPattern i e = absurd (true≢false (sym e))
  fixed-role RestElement i e = absurd (true≢false (sym e))
  fixed-role ObjectTarget i e = absurd (true≢false (sym e))
  fixed-role TargetProperty i e = absurd (true≢false (sym e))
  fixed-role ArrayTarget i e = absurd (true≢false (sym e))
  fixed-role TargetWithDefault i e = absurd (true≢false (sym e))
  fixed-role TargetRest i e = absurd (true≢false (sym e))
  fixed-role k zero e = refl
  fixed-role k (suc zero) e = refl
  fixed-role k (suc (suc zero)) e = refl
  fixed-role k (suc (suc (suc i))) e = refl

  declaration-role : (i : ℕ) → role_at r' FunctionDeclaration l fs (suc i) ≡ role_at r FunctionDeclaration l fs (suc i)
  declaration-role zero = refl
  declaration-role (suc i) = refl

  -- what a function declaration's name declares isn't in its frame
  declaration-names : (gs : Fields) → declared_in false (is_inside FunctionDeclaration) (role_at r' FunctionDeclaration l fs) gs ≡ declared_in false (is_inside FunctionDeclaration) (role_at r FunctionDeclaration l fs) gs
  declaration-names done = refl
  declaration-names (f then gs) = λ j. declared_in false (λ i. is_inside FunctionDeclaration (suc i)) (λ i. declaration-role i j) gs

  module _ (p : Place) (i : ℕ) where
    abbrev in_field : (ℕ → Role) → AstType → Place
    in_field roles k = place_in p k l roles fs i

    abbrev AlikeIn : AstType → Type 0
    AlikeIn k = PlacesAlike is_asked_for (in_field (role_at r k l fs) k) (in_field (role_at r' k l fs) k)

    same : (k : AstType) → in_field (role_at r' k l fs) k ≡ in_field (role_at r k l fs) k → AlikeIn k
    same k e = record { scope = λ y u. ap (λ q. q.scope y) e; parameters = λ y u. ap (λ q. q.parameters y) e }

    unfixed : (k : AstType) → has_fixed_roles k ≡ false → AlikeIn k
    unfixed FunctionDeclaration e = record {
      scope = λ y u. ap (λ bs. (if is_inside FunctionDeclaration i then within bs p.scope else p.scope) y) (declaration-names fs);
      parameters = λ y u. ap (λ bs. is_some (sought bs y)) (declaration-names fs);
    }
    unfixed ExportNamedDeclaration e = record { scope = λ y u. refl; parameters = λ y u. refl }
    unfixed ExportDefaultDeclaration e = record { scope = λ y u. refl; parameters = λ y u. refl }
    unfixed VariableDeclarator e = record { scope = λ y u. refl; parameters = λ y u. refl }
    unfixed MethodDefinition e = record { scope = λ y u. refl; parameters = λ y u. refl }
    unfixed ExportSpecifier e = record { scope = λ y u. refl; parameters = λ y u. refl }
    unfixed ParenthesizedExpression e = record { scope = λ y u. refl; parameters = λ y u. refl }
    unfixed ObjectPattern e = record { scope = λ y u. refl; parameters = λ y u. refl }
    unfixed PatternProperty e = record { scope = λ y u. refl; parameters = λ y u. refl }
    unfixed ArrayPattern e = record { scope = λ y u. refl; parameters = λ y u. refl }
    unfixed AssignmentPattern e = record { scope = λ y u. refl; parameters = λ y u. refl }
    unfixed RestElement e = record { scope = λ y u. refl; parameters = λ y u. refl }
    unfixed ObjectTarget e = record { scope = λ y u. refl; parameters = λ y u. refl }
    unfixed TargetProperty e = record { scope = λ y u. refl; parameters = λ y u. refl }
    unfixed ArrayTarget e = record { scope = λ y u. refl; parameters = λ y u. refl }
    unfixed TargetWithDefault e = record { scope = λ y u. refl; parameters = λ y u. refl }
    unfixed TargetRest e = record { scope = λ y u. refl; parameters = λ y u. refl }
    unfixed k e = absurd (true≢false e)

    by-roles : (k : AstType) (b : Bool) → has_fixed_roles k ≡ b → AlikeIn k
    by-roles k true e = same k (λ j. in_field (λ i. fixed-role k i e j) k)
    by-roles k false e = unfixed k e

    other-role : (k : AstType) → AlikeIn k
    other-role k = by-roles k (has_fixed_roles k) refl

both-alike : (p q o : Place) → PlacesAlike is_asked_for p q → PlacesAlike is_asked_for q o → PlacesAlike is_asked_for p o
both-alike p q o a b = record { scope = λ y u. b.scope y u ∙ a.scope y u; parameters = λ y u. b.parameters y u ∙ a.parameters y u }

names-in : (p q : Place) (r r' : Role) (k : AstType) (l : Label) (fs : Fields) (i : ℕ) → PlacesAlike is_asked_for p q → PlacesAlike is_asked_for (place_in p k l (role_at r k l fs) fs i) (place_in q k l (role_at r' k l fs) fs i)
names-in p q r r' k l fs i a = both-alike (place_in p k l (role_at r k l fs) fs i) (place_in q k l (role_at r k l fs) fs i) (place_in q k l (role_at r' k l fs) fs i) (place-inwards is_asked_for p q a k l r fs i) (other-role r r' l fs q i k)

-- LEVELS: what a place takes inside parentheses and chains is what it takes around them

-- where the value of a chain is taken, it is after the move, and so it is of its content
pub record Levels (a b : Level) : Type 0 where
  pub value : takes_value a ≡ true → takes_value b ≡ true
  pub content : takes_value (content_level a) ≡ true → takes_value (content_level b) ≡ true

content-twice : (a : Level) → content_level (content_level a) ≡ content_level a
content-twice Level.an_operand_of_typeof = refl
content-twice a = refl

unary-level : (f g : Bool) (c : UnaryClass) → (unary_need g c).level ≡ (unary_need f c).level
unary-level f g UnaryClass.typeof_class = refl
unary-level f g UnaryClass.delete_class = refl
unary-level f g UnaryClass.void_class = refl
unary-level f g c = refl

same-levels : (a b : Level) → b ≡ a → Levels a b
same-levels a b e = record { value = λ h. ap (λ x. takes_value x) e ∙ h; content = λ h. ap (λ x. takes_value (content_level x)) e ∙ h }

levels-in : (a b : Need) (k : AstType) (ts : List (Option Text)) (fs : List Bool) (i : ℕ) → Levels a.level b.level → Levels (needs a k ts fs i).level (needs b k ts fs i).level
levels-in a b ParenthesizedExpression ts fs i h = h
levels-in a b ChainExpression ts fs i h = record { value = h.content; content = λ e. ap (λ x. takes_value x) (content-twice b.level) ∙ h.content (sym (ap (λ x. takes_value x) (content-twice a.level)) ∙ e) }
levels-in a b UnaryExpression ts fs i h = same-levels (unary_need a.form (unary_class (first_text ts))).level (unary_need b.form (unary_class (first_text ts))).level (unary-level a.form b.form (unary_class (first_text ts)))
levels-in a b MemberExpression ts fs zero h = record { value = λ e. e; content = λ e. e }
levels-in a b MemberExpression ts fs (suc i) h = record { value = λ e. e; content = λ e. e }
levels-in a b k ts fs i h = record { value = λ e. e; content = λ e. e }

-- MOVES

pub record Moves (n m : Site) : Type 0 where
  pub names : PlacesAlike is_asked_for n.names m.names
  pub levels : Levels n.need.level m.need.level
  pub accepted : accepts_chain n ≡ true → accepts_chain m ≡ true

in-parens : (r v t v' t' : Bool) → (v ≡ true → v' ≡ true) → ((v || t) ≡ true → (v' || t') ≡ true) → (v || (r && t)) ≡ true → (v' || (r && t')) ≡ true
in-parens true v t v' t' f g e = g e
in-parens false true t v' t' f g e = rw (f refl) refl
in-parens false false t v' t' f g e = absurd (true≢false (sym e))

elsewhere : (v v' q : Bool) → (v ≡ true → v' ≡ true) → (v || q) ≡ true → (v' || q) ≡ true
elsewhere true v' q f e = rw (f refl) refl
elsewhere false true q f e = refl
elsewhere false false q f e = e

accepted-in : (n m : Site) (k : AstType) (l : Label) (fs : OpenFields) (i : ℕ) → Moves n m → Levels (site_in n k l fs i).need.level (site_in m k l fs i).need.level → accepts_chain (site_in n k l fs i) ≡ true → accepts_chain (site_in m k l fs i) ≡ true
accepted-in n m ParenthesizedExpression l fs i h d = in-parens (leads_by ParenthesizedExpression 0 (ancestor ParenthesizedExpression l (outline fs) i 0)) (takes_value n.need.level) (is_taken_over n.above) (takes_value m.need.level) (is_taken_over m.above) h.levels.value h.accepted
accepted-in n m k l fs i h d = elsewhere (takes_value (site_in n k l fs i).need.level) (takes_value (site_in m k l fs i).need.level) (takes_over (ancestor k l (outline fs) i 0) || false) d.value

pub moves-in : (n m : Site) (k : AstType) (l : Label) (fs : OpenFields) (i : ℕ) → Moves n m → Moves (site_in n k l fs i) (site_in m k l fs i)
moves-in n m k l fs i h =
    let levels = levels-in n.need m.need k l.texts l.flags i h.levels in
    record { names = names-in n.names m.names n.role m.role k l (finished_fields fs) i h.names; levels = levels; accepted = accepted-in n m k l fs i h levels }

pub moves-body : (n m : Site) (b : Bool) (t : Tree) → Moves n m → Moves (body_site n b t) (body_site m b t)
moves-body n m true t h = h
moves-body n m false t h = record { names = record { scope = h.names.scope; parameters = λ y u. refl }; levels = h.levels; accepted = h.accepted }

-- PARTS

or-more : (a b c : Bool) → (b ≡ true → c ≡ true) → (a || b) ≡ true → (a || c) ≡ true
or-more true b c f e = refl
or-more false b c f e = f e

unbound-still : (asked : Bool) (x : Text) (n m : Site) → m.names.scope x ≡ n.names.scope x → is_unbound_if asked x n ≡ true → is_unbound_if asked x m ≡ true
unbound-still asked x n m scope e = subst (λ (s : Option ℕ). (not asked || not (is_some s)) ≡ true) (sym scope) e

module _ (o : EnvOptions) where
  placed-still : (n m : Site) (k : AstType) (l : Label) (fs : Fields) → AgreeOnUsed is_asked_for n.names.scope m.names.scope → (accepts_chain n ≡ true → accepts_chain m ≡ true) → is_placed o n k l fs ≡ true → is_placed o m k l fs ≡ true
  placed-still n m k l fs scope accepted e =
      let parts = and_parts (is_power_free o n k l fs && is_copy_free o n k l fs) (is_chain_placed o n k) e in
      let names = and_parts (is_power_free o n k l fs) (is_copy_free o n k l fs) parts.0 in
      and_from (is_power_free o m k l fs && is_copy_free o m k l fs) (is_chain_placed o m k)
      (and_from (is_power_free o m k l fs) (is_copy_free o m k l fs)
      (unbound-still (o.es2016.exponentiation_operator && is_exponentiation k l fs) (codes "Math") n m (scope (codes "Math") refl) names.0)
      (unbound-still (is_some o.es2018.object_rest_spread && is_copied k l fs) (codes "babelHelpers") n m (scope (codes "babelHelpers") refl) names.1))
      (or-more (not (o.es2020.optional_chaining && is_chain_kind k)) (accepts_chain n) (accepts_chain m) accepted parts.1)

  mutual
    pub moved : (n m : Site) (t : Tree) → Moves n m → each_passes (is_placed o) n t ≡ true → each_passes (is_placed o) m t ≡ true
    moved n m (node k l fs) h e =
        let parts = and_parts (is_placed o n k l fs) (each_passes_in (is_placed o) (site_in n k l (opened_fields (is_body k) fs)) (is_body k) fs) e in
        and_from (is_placed o m k l fs) (each_passes_in (is_placed o) (site_in m k l (opened_fields (is_body k) fs)) (is_body k) fs)
        (placed-still n m k l fs h.names.scope h.accepted parts.0)
        (moved-in (site_in n k l (opened_fields (is_body k) fs)) (site_in m k l (opened_fields (is_body k) fs)) (is_body k) fs (λ i. moves-in n m k l (opened_fields (is_body k) fs) i h) parts.1)

    pub moved-in : (c d : ℕ → Site) (bodies : ℕ → Bool) (fs : Fields) → ((i : ℕ) → Moves (c i) (d i)) → each_passes_in (is_placed o) c bodies fs ≡ true → each_passes_in (is_placed o) d bodies fs ≡ true
    moved-in c d bodies done h e = refl
    moved-in c d bodies (f then fs) h e =
        let parts = and_parts (each_passes_by (is_placed o) (c zero) (bodies zero) f) (each_passes_in (is_placed o) (λ i. c (suc i)) (λ i. bodies (suc i)) fs) e in
        and_from (each_passes_by (is_placed o) (d zero) (bodies zero) f) (each_passes_in (is_placed o) (λ i. d (suc i)) (λ i. bodies (suc i)) fs) (moved-by (c zero) (d zero) (bodies zero) f (h zero) parts.0) (moved-in (λ i. c (suc i)) (λ i. d (suc i)) (λ i. bodies (suc i)) fs (λ i. h (suc i)) parts.1)

    pub moved-by : (n m : Site) (b : Bool) (f : Field) → Moves n m → each_passes_by (is_placed o) n b f ≡ true → each_passes_by (is_placed o) m b f ≡ true
    moved-by n m true missing h e = refl
    moved-by n m false missing h e = refl
    moved-by n m true (one t) h e = moved (body_site n (is_statement_body t) t) (body_site m (is_statement_body t) t) t (moves-body n m (is_statement_body t) t h) e
    moved-by n m false (one t) h e = moved n m t h e
    moved-by n m true (many ts) h e = moved-among n m ts h e
    moved-by n m false (many ts) h e = moved-among n m ts h e
    moved-by n m true (statements ts) h e = moved-among n m ts h e
    moved-by n m false (statements ts) h e = moved-among n m ts h e

    pub moved-among : (n m : Site) (ts : Trees) → Moves n m → each_passes_among (is_placed o) n ts ≡ true → each_passes_among (is_placed o) m ts ≡ true
    moved-among n m empty h e = refl
    moved-among n m (t before ts) h e =
        let parts = and_parts (each_passes (is_placed o) n t) (each_passes_among (is_placed o) n ts) e in
        and_from (each_passes (is_placed o) m t) (each_passes_among (is_placed o) m ts) (moved n m t h parts.0) (moved-among n m ts h parts.1)
