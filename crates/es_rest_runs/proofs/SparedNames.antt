-- A pattern that doesn't bind a name whose symbol nothing in it writes doesn't aim at the name; and names that are avoided as hidden ones and as frozen ones.
use Rattle.std.proofs.Common.{◌≡◌, ℕ, zero, suc, refl, sym, ap, ◌∙◌}
use Rattle.std.proofs.lemmas.Bool.{and_from, and_parts, eq-eqb, not-true, or_parts}
use Rattle.std.proofs.lemmas.Slice.Eq.{bytes_eq-Decides}
use Rattle.std.specs.Prelude.{Bool, true, false, not, ◌&&◌, ◌||◌, Option, Some, None, bytes_eq, is_some, if◌then◌else◌, List, [], ◌∷◌, ◌++◌}
use Rattle.es_tree.specs.Names.{first_text}
use Rattle.es_tree.specs.References.{is_symbol}
use Rattle.es_tree.specs.Tree.{Tree, node, Label, Fields, done, ◌then◌, Field, missing, one, many, statements, Trees, empty, ◌before◌, kind_of}
use Rattle.es_tree.specs.Walks.{all_nodes}
use Rattle.es_tree.specs.Words.{Text}
use Rattle.es_tree.specs.declared.ast_type.AstType.{AstType}
use Rattle.es_tree.specs.declared.ast_type.AstType.TheVariants.{ArrowFunctionExpression, BlockStatement, CatchClause, ClassDeclaration, ClassExpression, ForInStatement, ForOfStatement, ForStatement, FunctionBody, FunctionDeclaration, FunctionExpression, Identifier, Program, StaticBlock, SwitchStatement}
use Rattle.es_runs.specs.Alike.{Level, bad_names, is_bad}
use Rattle.es_runs.specs.Alike.Level.{a_target}
use Rattle.es_runs.specs.Runs.{none_hidden, only}
use Rattle.es_semantic.specs.Places.{is_inside, makes_scope}
use Rattle.es_semantic.specs.RolesOf.{role_at}
use Rattle.es_semantic.specs.declared.place.Role.{Role}
use Rattle.es_semantic.specs.declared.place.Role.TheVariants.{Binds, Refers}
use Rattle.es_resolution.specs.Declarations.{Bound, declared, declared_among, declared_by, declared_in, is_asked, own_declared, reaches_out, symbol_of}
use Rattle.es_resolution.specs.Resolved.{OwnRight, Place, Resolved, bound_by, place_in, within}
use Rattle.es_resolution.specs.Written.{is_written, is_written_in, own_writes}
use Rattle.es_resolution.proofs.Declares.{bound-both}
use Rattle.es_statement_runs.specs.Names.{names_of_all, own_names}
use Rattle.es_statement_runs.specs.Places.{Take, all_good, avoids, avoids_field, avoids_fields, avoids_trees, takes_of}
use Rattle.es_statement_runs.specs.Programs.{is_statement_kind}
use Rattle.es_statement_steps.proofs.AvoidedNames.{AtNames, OwnAt, Suits, aims_pass, below_names, is_aimed, names_avoid}
use Rattle.es_statement_steps.proofs.Below.{Below, BelowField, BelowTrees, both_below, by_parts}
use Rattle.es_statement_steps.proofs.DeclaredNames.{from_children, role_inner_by}
use Rattle.es_statement_steps.proofs.FoundNames.{resolved_below, scope_at}
use Rattle.es_statement_steps.proofs.Stands.{is_inner, is_program, standing, stands}
use Rattle.es_statement_steps.proofs.SteadyNames.{NoneWritten, is_bound, none_below}

-- NO SCOPE stands in a pattern of the class
pub no_scope : (k : AstType) → is_statement_kind k ≡ true → is_inner k ≡ true → makes_scope k ≡ false
no_scope BlockStatement c e = absurd (cc e)
no_scope StaticBlock c e = absurd (cc c)
no_scope FunctionDeclaration c e = absurd (cc c)
no_scope FunctionExpression c e = absurd (cc c)
no_scope FunctionBody c e = absurd (cc c)
no_scope ArrowFunctionExpression c e = absurd (cc c)
no_scope ClassDeclaration c e = absurd (cc c)
no_scope ClassExpression c e = absurd (cc c)
no_scope ForStatement c e = absurd (cc e)
no_scope ForInStatement c e = absurd (cc e)
no_scope ForOfStatement c e = absurd (cc e)
no_scope SwitchStatement c e = absurd (cc e)
no_scope CatchClause c e = absurd (cc e)
no_scope _ c e = refl

inner_program : (k : AstType) → is_inner k ≡ true → is_program k ≡ false
inner_program Program e = absurd (cc e)
inner_program _ e = refl

inner_scope : (p : Place) (k : AstType) (l : Label) (roles : ℕ → Role) (fs : Fields) (i : ℕ) → is_statement_kind k ≡ true → is_inner k ≡ true → (place_in p k l roles fs i).scope ≡ p.scope
inner_scope p k l roles fs i c e =
    scope_at p k l roles fs i c (inner_program k e) ∙ ap (λ b. if b && is_inside k i then within (declared_in false (is_inside k) roles fs) p.scope else p.scope) (no_scope k c e)

-- what isn't declared in a node isn't in what stands in it
left-none : (bs cs : List Bound) (x : Text) → bound_by (bs ++ cs) x ≡ false → (bound_by bs x ≡ false) × (bound_by cs x ≡ false)
left-none bs cs x h = or_parts (bound_by bs x) (bound_by cs x) (sym (bound-both bs cs x (bound_by bs x) (bound_by cs x) refl refl) ∙ h)

module _ (s : Text) (v : Bool) where
  abbrev pub Apart : Role → Tree → Type 0
  Apart r t = bound_by (declared v r t) s ≡ false

  apart_trees : (r : Role) (ts : Trees) → bound_by (declared_among v r ts) s ≡ false → BelowTrees (Apart r) ts
  apart_trees r empty h = tt
  apart_trees r (t before ts) h = let d = left-none (declared v r t) (declared_among v r ts) s h in (d.0, apart_trees r ts d.1)

  apart_field : (r : Role) (f : Field) → bound_by (declared_by v r f) s ≡ false → BelowField (Apart r) f
  apart_field r missing h = tt
  apart_field r (one t) h = h
  apart_field r (many ts) h = apart_trees r ts h
  apart_field r (statements ts) h = apart_trees r ts h

  apart_below : (counts : ℕ → Bool) (roles : ℕ → Role) (fs : Fields) → ((i : ℕ) → counts i ≡ true) → bound_by (declared_in v counts roles fs) s ≡ false → Below (λ i. Apart (roles i)) fs
  apart_below counts roles done all h = tt
  apart_below counts roles (f then fs) all h =
      let d = left-none (if counts zero then declared_by v (roles zero) f else []) (declared_in v (λ i. counts (suc i)) (λ i. roles (suc i)) fs) s h in
      (apart_field (roles zero) f (ap (λ (c : Bool). bound_by (if c then declared_by v (roles zero) f else []) s) (sym (all zero)) ∙ d.0), apart_below (λ i. counts (suc i)) (λ i. roles (suc i)) fs (λ i. all (suc i)) d.1)

  -- a pattern declares around itself
  reaches : (k : AstType) (i : ℕ) → is_statement_kind k ≡ true → is_inner k ≡ true → reaches_out v k i ≡ true
  reaches k i c e = at v k c e
    where
      at : (b : Bool) (k : AstType) → is_statement_kind k ≡ true → is_inner k ≡ true → reaches_out b k i ≡ true
      at true Program c e = absurd (cc e)
      at true StaticBlock c e = absurd (cc e)
      at true FunctionBody c e = absurd (cc e)
      at true _ c e = refl
      at false Program c e = absurd (cc e)
      at false BlockStatement c e = absurd (cc e)
      at false StaticBlock c e = absurd (cc c)
      at false FunctionDeclaration c e = absurd (cc c)
      at false FunctionExpression c e = absurd (cc c)
      at false FunctionBody c e = absurd (cc c)
      at false ArrowFunctionExpression c e = absurd (cc c)
      at false ClassDeclaration c e = absurd (cc c)
      at false ClassExpression c e = absurd (cc c)
      at false ForStatement c e = absurd (cc e)
      at false ForInStatement c e = absurd (cc e)
      at false ForOfStatement c e = absurd (cc e)
      at false SwitchStatement c e = absurd (cc e)
      at false CatchClause c e = absurd (cc e)
      at false _ c e = refl

  -- what binds or writes doesn't have the name
  abbrev pub IsSpared : Role → Label → Type 0
  IsSpared r l = is_aimed r ≡ true → only s (first_text l.texts) ≡ false

  -- a role that binds is that of the declarations that are looked at
  abbrev pub other_binds : Role → Bool
  other_binds r = is_bound r && not (is_asked v r)

  module _ (m : ℕ) where
    abbrev IsThis : ℕ → Type 0
    IsThis n = n ≡ m

    own_spared : (p : Place) (r : Role) (k : AstType) (l : Label) → p.scope s ≡ Some m → OwnRight p r k l → other_binds r ≡ false → bound_by (own_declared v r k l) s ≡ false → own_writes m r k l ≡ false → OwnAt IsSpared r k l
    own_spared p (Binds b) Identifier l e h n d w = λ a. at (is_asked v (Binds b)) n d
      where
        named : (c : Bool) → is_some (if c then Some (symbol_of l) else None) ≡ false → c ≡ false
        named true g = absurd (cc g)
        named false g = refl

        at : (c : Bool) → not c ≡ false → bound_by (if c then record { name = first_text l.texts; symbol = symbol_of l } ∷ [] else []) s ≡ false → only s (first_text l.texts) ≡ false
        at true n d = named (bytes_eq (first_text l.texts) s) d
        at false n d = absurd (cc n)
    own_spared p (Refers f) Identifier l e h n d w = λ a. at (only s (first_text l.texts)) refl a
      where
        at : (c : Bool) → only s (first_text l.texts) ≡ c → f.write ≡ true → c ≡ false
        at false g a = refl
        at true g a =
            let same : first_text l.texts ≡ s = (bytes_eq-Decides (first_text l.texts) s).0 g in
            let symbol : symbol_of l ≡ Some m = h ∙ ap p.scope same ∙ e in
            let yes : is_symbol m (symbol_of l) ≡ true = ap (is_symbol m) symbol ∙ eq-eqb m m refl in
            absurd (let no : true ≡ false = sym yes ∙ ap (λ b. b && is_symbol m (symbol_of l)) (sym a) ∙ w in cc no)
    own_spared p _ Identifier l e h n d w = λ a. absurd (cc a)
    own_spared p r _ l e h n d w = tt

    abbrev Spared : Tree → Type 0
    Spared t = (r : Role) (p : Place) → p.scope s ≡ Some m → Resolved r p t → other_binds r ≡ false → Apart r t → NoneWritten IsThis r t → is_inner (kind_of t) ≡ true → all_nodes stands t ≡ true → AtNames IsSpared r t

    spared_at : (k : AstType) (l : Label) (fs : Fields) → Below (λ i. Spared) fs → Spared (node k l fs)
    spared_at k l fs below r p e resolved n d w inner h =
        let st = standing k l fs h in
        let roles = role_at r k l fs in
        let places = place_in p k l roles fs in
        let parts = left-none (own_declared v r k l) (declared_in v (reaches_out v k) roles fs) s d in (
          own_spared p r k l e resolved.0 n parts.0 (or_parts (own_writes m r k l) (is_written_in m roles fs) (w m refl)).0,
          below_names IsSpared roles fs
              (from_children k l fs (λ i t. Spared t × (Resolved (roles i) (places i) t × (NoneWritten IsThis (roles i) t × Apart (roles i) t))) (λ i t. AtNames IsSpared (roles i) t) st
              (both_below (λ i. Spared) (λ i t. Resolved (roles i) (places i) t × (NoneWritten IsThis (roles i) t × Apart (roles i) t)) fs below
              (both_below (λ i t. Resolved (roles i) (places i) t) (λ i t. NoneWritten IsThis (roles i) t × Apart (roles i) t) fs (resolved_below roles places fs resolved.2)
              (both_below (λ i. NoneWritten IsThis (roles i)) (λ i. Apart (roles i)) fs (none_below IsThis roles fs (λ j g. (or_parts (own_writes j r k l) (is_written_in j roles fs) (w j g)).1))
              (apart_below (reaches_out v k) roles fs (λ i. reaches k i st.class inner) parts.1))))
              (λ i t q c. q.0 (roles i) (places i) (ap (λ (f : Text → Option ℕ). f s) (inner_scope p k l roles fs i st.class inner) ∙ e) q.1.0
              (role_inner_by other_binds (λ read write. refl) refl r k l fs i st.class inner n) q.1.1.1 q.1.1.0 (c.stands_there.inner inner) c.nodes)),
        )

    spared_names : (t : Tree) → Spared t
    spared_names = by_parts Spared spared_at

    spared_good : (r : Role) (n : Level) (l : Label) → (n ≡ a_target → is_aimed r ≡ true) → IsSpared r l → bad_names none_hidden (only s) n (first_text l.texts) ≡ false
    spared_good r Level.no_evaluation l e h = refl
    spared_good r Level.value_alone l e h = refl
    spared_good r Level.an_operand_of_typeof l e h = refl
    spared_good r Level.whole_reference l e h = refl
    spared_good r Level.a_callee l e h = refl
    spared_good r Level.a_target l e h = h (e refl)

    -- so the name is no target in it
    pub spared_avoids : (r : Role) (n : Take) (p : Place) (t : Tree) → Suits is_aimed r n (kind_of t) → p.scope s ≡ Some m → Resolved r p t → other_binds r ≡ false → Apart r t → is_written m r t ≡ false → is_inner (kind_of t) ≡ true → all_nodes stands t ≡ true →
        avoids (bad_names none_hidden (only s)) n t ≡ true
    spared_avoids r n p t suits e resolved unbound apart unwritten inner h =
        names_avoid is_aimed aims_pass (bad_names none_hidden (only s)) IsSpared (λ q j l g a d. spared_good q j l a d) r n t
        (spared_names t r p e resolved unbound apart (λ j g. ap (λ i. is_written i r t) g ∙ unwritten) inner h) suits h

-- HIDDEN AND FROZEN NAMES together

module _ (hidden frozen : Text → Bool) where
  abbrev Hidden : Level → Text → Bool
  Hidden = bad_names hidden none_hidden

  abbrev Frozen : Level → Text → Bool
  Frozen = bad_names none_hidden frozen

  abbrev Either : Level → Text → Bool
  Either = bad_names hidden frozen

  neither : (a b : Bool) → (a || false) ≡ false → b ≡ false → (a || b) ≡ false
  neither true b h g = absurd (cc h)
  neither false b h g = g

  name_both : (n : Level) (x : Text) → Hidden n x ≡ false → Frozen n x ≡ false → Either n x ≡ false
  name_both Level.no_evaluation x h g = refl
  name_both Level.value_alone x h g = h
  name_both Level.an_operand_of_typeof x h g = h
  name_both Level.whole_reference x h g = h
  name_both Level.a_callee x h g = h
  name_both Level.a_target x h g = neither (hidden x) (frozen x) h g

  good_name : (n : Level) (x : Text) → not (Hidden n x) ≡ true → not (Frozen n x) ≡ true → not (Either n x) ≡ true
  good_name n x h g = ap not (name_both n x (not-true (Hidden n x) h) (not-true (Frozen n x) g))

  good_both : (xs : List Text) → all_good Hidden xs ≡ true → all_good Frozen xs ≡ true → all_good Either xs ≡ true
  good_both [] h g = refl
  good_both (x ∷ xs) h g =
      let a = and_parts (not (Hidden a_target x)) (all_good Hidden xs) h in
      let b = and_parts (not (Frozen a_target x)) (all_good Frozen xs) g in
      and_from (not (Either a_target x)) (all_good Either xs) (good_name a_target x a.0 b.0) (good_both xs a.1 b.1)

  own_both : (n : Level) (k : AstType) (l : Label) → not (is_bad Hidden n k l.texts) ≡ true → not (is_bad Frozen n k l.texts) ≡ true → not (is_bad Either n k l.texts) ≡ true
  own_both n Identifier l h g = good_name n (first_text l.texts) h g
  own_both n _ l h g = refl

  mutual
    pub avoids_both : (t : Take) (a : Tree) → avoids Hidden t a ≡ true → avoids Frozen t a ≡ true → avoids Either t a ≡ true
    avoids_both t (node k l fs) h g =
        let a = and_parts (not (is_bad Hidden t.need.level k l.texts)) (all_good Hidden (names_of_all (own_names k fs)) && avoids_fields Hidden (takes_of t k l.texts l.flags) fs) h in
        let b = and_parts (not (is_bad Frozen t.need.level k l.texts)) (all_good Frozen (names_of_all (own_names k fs)) && avoids_fields Frozen (takes_of t k l.texts l.flags) fs) g in
        let c = and_parts (all_good Hidden (names_of_all (own_names k fs))) (avoids_fields Hidden (takes_of t k l.texts l.flags) fs) a.1 in
        let d = and_parts (all_good Frozen (names_of_all (own_names k fs))) (avoids_fields Frozen (takes_of t k l.texts l.flags) fs) b.1 in
        and_from (not (is_bad Either t.need.level k l.texts)) (all_good Either (names_of_all (own_names k fs)) && avoids_fields Either (takes_of t k l.texts l.flags) fs) (own_both t.need.level k l a.0 b.0)
        (and_from (all_good Either (names_of_all (own_names k fs))) (avoids_fields Either (takes_of t k l.texts l.flags) fs) (good_both (names_of_all (own_names k fs)) c.0 d.0) (fields_both (takes_of t k l.texts l.flags) fs c.1 d.1))

    fields_both : (c : ℕ → Take) (fs : Fields) → avoids_fields Hidden c fs ≡ true → avoids_fields Frozen c fs ≡ true → avoids_fields Either c fs ≡ true
    fields_both c done h g = refl
    fields_both c (f then fs) h g =
        let a = and_parts (avoids_field Hidden (c zero) f) (avoids_fields Hidden (λ i. c (suc i)) fs) h in
        let b = and_parts (avoids_field Frozen (c zero) f) (avoids_fields Frozen (λ i. c (suc i)) fs) g in
        and_from (avoids_field Either (c zero) f) (avoids_fields Either (λ i. c (suc i)) fs) (field_both (c zero) f a.0 b.0) (fields_both (λ i. c (suc i)) fs a.1 b.1)

    field_both : (t : Take) (f : Field) → avoids_field Hidden t f ≡ true → avoids_field Frozen t f ≡ true → avoids_field Either t f ≡ true
    field_both t missing h g = refl
    field_both t (one a) h g = avoids_both t a h g
    field_both t (many ts) h g = trees_both t ts h g
    field_both t (statements ts) h g = trees_both t ts h g

    pub trees_both : (t : Take) (ts : Trees) → avoids_trees Hidden t ts ≡ true → avoids_trees Frozen t ts ≡ true → avoids_trees Either t ts ≡ true
    trees_both t empty h g = refl
    trees_both t (a before ts) h g =
        let p = and_parts (avoids Hidden t a) (avoids_trees Hidden t ts) h in
        let q = and_parts (avoids Frozen t a) (avoids_trees Frozen t ts) g in
        and_from (avoids Either t a) (avoids_trees Either t ts) (avoids_both t a p.0 q.0) (trees_both t ts p.1 q.1)
