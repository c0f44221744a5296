-- A name whose symbol nothing writes (ECMA-262, 13.4, 13.15) is no target in an expression: there each such name finds the same symbol, since no scope stands in
-- an expression of the class.
use Rattle.std.proofs.Common.{◌≡◌, ℕ, zero, suc, refl, sym, ap, ◌∙◌}
use Rattle.std.proofs.lemmas.Bool.{eq-eqb, or_parts}
use Rattle.std.specs.Prelude.{Bool, true, false, ◌&&◌, ◌||◌, Option, Some, None, is_some, if◌then◌else◌}
use Rattle.es_tree.specs.Names.{first_text}
use Rattle.es_tree.specs.References.{is_symbol}
use Rattle.es_tree.specs.Tree.{Tree, node, Label, Fields, done, ◌then◌, Field, missing, one, many, statements, Trees, empty, ◌before◌, kind_of}
use Rattle.es_tree.specs.Walks.{all_nodes}
use Rattle.es_tree.specs.Words.{Text}
use Rattle.es_tree.specs.declared.ast_type.AstType.{AstType}
use Rattle.es_tree.specs.declared.ast_type.AstType.TheVariants.{Program, BlockStatement, StaticBlock, FunctionDeclaration, FunctionExpression, FunctionBody, ArrowFunctionExpression, ClassDeclaration, ClassExpression, ForStatement, ForInStatement, ForOfStatement, SwitchStatement, CatchClause, Identifier}
use Rattle.es_runs.specs.Alike.{Level, bad_names}
use Rattle.es_runs.specs.Alike.Level.{a_target, no_evaluation}
use Rattle.es_semantic.specs.Places.{is_inside, makes_scope}
use Rattle.es_semantic.specs.RolesOf.{role_at}
use Rattle.es_semantic.specs.declared.place.Role.{Role}
use Rattle.es_semantic.specs.declared.place.Role.TheVariants.{Binds, Nothing, Refers}
use Rattle.es_resolution.specs.Declarations.{declared_in, symbol_of}
use Rattle.es_resolution.specs.Named.{IsUsed, Named}
use Rattle.es_resolution.specs.Resolved.{OwnRight, Place, Resolved, place_in, within}
use Rattle.es_resolution.specs.Written.{is_written, is_written_among, is_written_by, is_written_in, own_writes}
use Rattle.es_statement_runs.specs.Places.{Take, avoids}
use Rattle.es_statement_runs.specs.Programs.{is_statement_kind}
use Rattle.es_statement_steps.proofs.AvoidedNames.{AtNames, OwnAt, Suits, aims_pass, below_names, both_names, is_aimed, names_avoid}
use Rattle.es_statement_steps.proofs.Below.{Below, BelowField, BelowTrees, both_below, by_parts}
use Rattle.es_statement_steps.proofs.DeclaredNames.{from_children, role_inner_by}
use Rattle.es_statement_steps.proofs.FoundNames.{resolved_below, scope_at}
use Rattle.es_statement_steps.proofs.FreshNames.{IsGood, named_good, names_told}
use Rattle.es_statement_steps.proofs.Stands.{is_inner, is_program, standing, stands}

abbrev pub is_bound : Role → Bool
is_bound (Binds b) = true
is_bound _ = false

no_scope : (k : AstType) → is_statement_kind k ≡ true → is_inner k ≡ true → makes_scope k ≡ false
no_scope BlockStatement c e = absurd (cc e)
no_scope StaticBlock c e = absurd (cc c)
no_scope FunctionDeclaration c e = absurd (cc c)
no_scope FunctionExpression c e = absurd (cc c)
no_scope FunctionBody c e = absurd (cc c)
no_scope ArrowFunctionExpression c e = absurd (cc c)
no_scope ClassDeclaration c e = absurd (cc c)
no_scope ClassExpression c e = absurd (cc c)
no_scope ForStatement c e = absurd (cc e)
no_scope ForInStatement c e = absurd (cc e)
no_scope ForOfStatement c e = absurd (cc e)
no_scope SwitchStatement c e = absurd (cc e)
no_scope CatchClause c e = absurd (cc e)
no_scope _ c e = refl

inner_program : (k : AstType) → is_inner k ≡ true → is_program k ≡ false
inner_program Program e = absurd (cc e)
inner_program _ e = refl

-- the names of an expression find what its place does
inner_scope : (p : Place) (k : AstType) (l : Label) (roles : ℕ → Role) (fs : Fields) (i : ℕ) → is_statement_kind k ≡ true → is_inner k ≡ true → (place_in p k l roles fs i).scope ≡ p.scope
inner_scope p k l roles fs i c e =
    scope_at p k l roles fs i c (inner_program k e)
    ∙ ap (λ b. if b && is_inside k i then within (declared_in false (is_inside k) roles fs) p.scope else p.scope) (no_scope k c e)

-- symbols that aren't written in a node aren't in what stands in it
module _ (S : ℕ → Type 0) where
  abbrev pub NoneWritten : Role → Tree → Type 0
  NoneWritten r t = (s : ℕ) → S s → is_written s r t ≡ false

  none_trees : (r : Role) (ts : Trees) → ((s : ℕ) → S s → is_written_among s r ts ≡ false) → BelowTrees (NoneWritten r) ts
  none_trees r empty h = tt
  none_trees r (t before ts) h = ((λ s e. (or_parts (is_written s r t) (is_written_among s r ts) (h s e)).0), none_trees r ts (λ s e. (or_parts (is_written s r t) (is_written_among s r ts) (h s e)).1))

  none_field : (r : Role) (w : Field) → ((s : ℕ) → S s → is_written_by s r w ≡ false) → BelowField (NoneWritten r) w
  none_field r missing h = tt
  none_field r (one t) h = h
  none_field r (many ts) h = none_trees r ts h
  none_field r (statements ts) h = none_trees r ts h

  pub none_below : (roles : ℕ → Role) (fs : Fields) → ((s : ℕ) → S s → is_written_in s roles fs ≡ false) → Below (λ i. NoneWritten (roles i)) fs
  none_below roles done h = tt
  none_below roles (w then fs) h = (
    none_field (roles zero) w (λ s e. (or_parts (is_written_by s (roles zero) w) (is_written_in s (λ i. roles (suc i)) fs) (h s e)).0),
    none_below (λ i. roles (suc i)) fs (λ s e. (or_parts (is_written_by s (roles zero) w) (is_written_in s (λ i. roles (suc i)) fs) (h s e)).1),
  )

-- f: what names find; frozen: names that find a symbol
module _ (f : Text → Option ℕ) (frozen : Text → Bool) (found : (x : Text) → frozen x ≡ true → is_some (f x) ≡ true) where
  -- what one of them finds
  abbrev pub IsFrozen : ℕ → Type 0
  IsFrozen s = (x : Text) × (frozen x ≡ true) × (f x ≡ Some s)

  -- what binds or writes isn't one of these names
  abbrev pub IsSteady : Role → Label → Type 0
  IsSteady r l = is_aimed r ≡ true → frozen (first_text l.texts) ≡ false

  -- a name that is written here and found is a symbol that is written
  written_here : (l : Label) (o : Option ℕ) → symbol_of l ≡ o → is_some o ≡ true → ((s : ℕ) → o ≡ Some s → (true && is_symbol s (symbol_of l)) ≡ false) → ⊥
  written_here l (Some s) e h g = let no : is_symbol s (symbol_of l) ≡ false = g s refl in let yes : is_symbol s (symbol_of l) ≡ true = ap (is_symbol s) e ∙ eq-eqb s s refl in absurd (cc (no, yes))
  written_here l None e h g = absurd (cc h)

  own_steady : (p : Place) (r : Role) (k : AstType) (l : Label) → p.scope ≡ f → OwnRight p r k l → is_bound r ≡ false → ((s : ℕ) → IsFrozen s → own_writes s r k l ≡ false) → OwnAt IsSteady r k l
  own_steady p (Binds b) Identifier l e h n w = absurd (cc n)
  own_steady p (Refers fl) Identifier l e h n w = λ a. at (frozen (first_text l.texts)) refl a
    where
      at : (c : Bool) → frozen (first_text l.texts) ≡ c → fl.write ≡ true → c ≡ false
      at false g a = refl
      at true g a = absurd (written_here l (f (first_text l.texts)) (h ∙ ap (λ (m : Text → Option ℕ). m (first_text l.texts)) e) (found (first_text l.texts) g) (λ s q. ap (λ b. b && is_symbol s (symbol_of l)) (sym a) ∙ w s (first_text l.texts, g, q)))
  own_steady p _ Identifier l e h n w = λ a. absurd (cc a)
  own_steady p r _ l e h n w = tt

  abbrev Steady : Tree → Type 0
  Steady t = (r : Role) (p : Place) → p.scope ≡ f → Resolved r p t → is_bound r ≡ false → is_inner (kind_of t) ≡ true → all_nodes stands t ≡ true → NoneWritten IsFrozen r t → AtNames IsSteady r t

  steady_at : (k : AstType) (l : Label) (fs : Fields) → Below (λ i. Steady) fs → Steady (node k l fs)
  steady_at k l fs below r p e resolved n inner h w =
      let s = standing k l fs h in
      let roles = role_at r k l fs in
      let places = place_in p k l roles fs in (
        own_steady p r k l e resolved.0 n (λ m d. (or_parts (own_writes m r k l) (is_written_in m roles fs) (w m d)).0),
        below_names IsSteady roles fs
            (from_children k l fs (λ i t. Steady t × (Resolved (roles i) (places i) t × NoneWritten IsFrozen (roles i) t)) (λ i t. AtNames IsSteady (roles i) t) s
            (both_below (λ i. Steady) (λ i t. Resolved (roles i) (places i) t × NoneWritten IsFrozen (roles i) t) fs below
            (both_below (λ i t. Resolved (roles i) (places i) t) (λ i. NoneWritten IsFrozen (roles i)) fs (resolved_below roles places fs resolved.2)
            (none_below IsFrozen roles fs (λ m d. (or_parts (own_writes m r k l) (is_written_in m roles fs) (w m d)).1))))
            (λ i t q c. q.0 (roles i) (places i) (inner_scope p k l roles fs i s.class inner ∙ e) q.1.0 (role_inner_by is_bound (λ read write. refl) refl r k l fs i s.class inner n) (c.stands_there.inner inner) c.nodes q.1.1)),
      )

  -- none of the names binds or writes
  pub steady_names : (r : Role) (p : Place) (t : Tree) → p.scope ≡ f → Resolved r p t → is_bound r ≡ false → is_inner (kind_of t) ≡ true → all_nodes stands t ≡ true → NoneWritten IsFrozen r t → AtNames IsSteady r t
  steady_names r p t = by_parts Steady steady_at t r p

-- NAMES THAT AREN'T IN USE, AND STEADY ONES: the first stand nowhere in an expression, and the others are no targets

level_apart : (r : Role) (n : Level) → (r ≡ Nothing → n ≡ no_evaluation) → (n ≡ no_evaluation → ⊥) → (in_use : Text → Bool) (x : Text) → IsUsed in_use r x → in_use x ≡ true
level_apart Nothing n e d in_use x u = absurd (d (e refl))
level_apart _ n e d in_use x u = u

steady_good : (in_use hidden frozen : Text → Bool) → ((x : Text) → in_use x ≡ true → hidden x ≡ false) → (r : Role) (n : Level) (x : Text) → (r ≡ Nothing → n ≡ no_evaluation) → (n ≡ a_target → is_aimed r ≡ true) → IsUsed in_use r x → (is_aimed r ≡ true → frozen x ≡ false) → bad_names hidden frozen n x ≡ false
steady_good in_use hidden frozen away r Level.no_evaluation x e a u s = refl
steady_good in_use hidden frozen away r Level.value_alone x e a u s = away x (level_apart r Level.value_alone e (λ g. cc g) in_use x u)
steady_good in_use hidden frozen away r Level.an_operand_of_typeof x e a u s = away x (level_apart r Level.an_operand_of_typeof e (λ g. cc g) in_use x u)
steady_good in_use hidden frozen away r Level.whole_reference x e a u s = away x (level_apart r Level.whole_reference e (λ g. cc g) in_use x u)
steady_good in_use hidden frozen away r Level.a_callee x e a u s = away x (level_apart r Level.a_callee e (λ g. cc g) in_use x u)
steady_good in_use hidden frozen away r Level.a_target x e a u s = (λ i. away x (level_apart r Level.a_target e (λ g. cc g) in_use x u) i || s (a refl) i)

pub steady_avoids : (in_use : Text → Bool) (free : ℕ) (hidden frozen : Text → Bool) → ((x : Text) → in_use x ≡ true → hidden x ≡ false) → (r : Role) (n : Take) (p : Place) (t : Tree) → ((x : Text) → frozen x ≡ true → is_some (p.scope x) ≡ true) →
    Suits is_aimed r n (kind_of t) → Named in_use free r t → Resolved r p t → is_bound r ≡ false → is_inner (kind_of t) ≡ true → all_nodes stands t ≡ true → ((s : ℕ) (x : Text) → frozen x ≡ true → p.scope x ≡ Some s → is_written s r t ≡ false) →
    avoids (bad_names hidden frozen) n t ≡ true
steady_avoids in_use free hidden frozen away r n p t found suits named resolved unbound inner h unwritten =
    let bad : Level → Text → Bool = bad_names hidden frozen in
    names_avoid is_aimed aims_pass bad (λ q m. IsGood in_use free bad q m × IsSteady p.scope frozen found q m) (λ q m l e a d. steady_good in_use hidden frozen away q m (first_text l.texts) e a d.0.0 d.1) r n t
    (both_names (IsGood in_use free bad) (IsSteady p.scope frozen found) r t (named_good in_use free bad r t named (names_told hidden frozen t)) (steady_names p.scope frozen found r p t refl resolved unbound inner h (λ s q. unwritten s q.0 q.1 q.2))) suits h
