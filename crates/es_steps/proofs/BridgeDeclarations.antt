-- A name that an open core program declares, in a declaration that is pending or written, is found from everywhere in it.
use Rattle.std.proofs.Common.{◌≡◌, ◌⊎◌, inl, inr, ℕ, zero, suc, refl, sym, ap, subst, ◌∙◌, List, [], ◌∷◌, ◌++◌}
use Rattle.std.proofs.lemmas.Bool.{and_parts}
use Rattle.std.proofs.lemmas.List.Folds.{list_any-append}
use Rattle.std.specs.Prelude.{Bool, true, false, ◌&&◌, ◌||◌, Option, Some, None, bytes_eq, codes, is_some, if◌then◌else◌}
use Rattle.es_tree.specs.Names.{first_text, flag_at}
use Rattle.es_tree.specs.Scopes.{declarator_name, declared_by, declared_in_body, declared_names, declares, is_named, name_in}
use Rattle.es_tree.specs.Tree.{Tree, node, Label, Fields, done, ◌then◌, Field, missing, one, many, statements, Trees, empty, ◌before◌}
use Rattle.es_tree.specs.Words.{Text}
use Rattle.es_tree.specs.declared.ast_type.AstType.{AstType}
use Rattle.es_tree.specs.declared.ast_type.AstType.TheVariants.{Identifier, MemberExpression, ParenthesizedExpression, ThisExpression, VariableDeclaration, VariableDeclarator}
use Rattle.es_semantic.specs.RolesOf.{reads, role_at}
use Rattle.es_semantic.specs.declared.place.Binding.{Binding}
use Rattle.es_semantic.specs.declared.place.Binding.TheVariants.{Variable, Let, Constant}
use Rattle.es_semantic.specs.declared.place.Role.{Role}
use Rattle.es_semantic.specs.declared.place.Role.TheVariants.{Binds, Nothing, Top}
use Rattle.es_runs.specs.Open as plain
use Rattle.es_runs.proofs.Declarations.{binds_name, body_of, declarators, is_declarator, statement}
use Rattle.es_resolution.specs.Declarations.{Bound, declared, declared_among, declared_by as declared_around, declared_in as declared_within, is_asked, own_declared, reaches_out, sought, symbol_of}
use Rattle.es_resolution.specs.Resolved.{bound_by}
use Rattle.es_resolution.proofs.Declares.{bound-append}
use Rattle.es_steps.specs.CoreBridge.{forgotten, forgotten_fields, forgotten_trees}
use Rattle.es_steps.specs.Open.{Open, open_node, OpenFields, ends, ◌and◌, OpenField, gap, child, body, children, list, OpenTrees, nil, ◌next◌, flanked, finished, finished_field, finished_fields, finished_trees, whole_list}
use Rattle.es_steps.proofs.BridgeLinks.{NameTied, OwnTied, Tied, TiedAll, TiedBy, TiedIn, asks, bytes_eq-equal, is_part_kind}
use Rattle.es_steps.proofs.BridgeOpen.{OpenTied, OpenTiedAll, OpenTiedBy, OpenTiedIn, OwnOpen, list-tied, no_open_fields}

-- WITH ALL THAT IS PENDING WRITTEN

module _ (used : Text → Bool) (look : Text → Option ℕ) where
  finished-none : (fs : OpenFields) → no_open_fields fs ≡ true → finished_fields fs ≡ done
  finished-none ends h = refl
  finished-none (f and fs) h = absurd (cc h)

  own-finished : (a : Bool) (k : AstType) (l : Label) (fs : OpenFields) → OwnOpen used look a k l fs → OwnTied used look a k l (finished_fields fs)
  own-finished a Identifier l fs h = (rw (finished-none fs h.0) refl, h.1)
  own-finished a ThisExpression l fs h = rw (finished-none fs h) refl
  own-finished a _ l fs h = tt

  mutual
    pub finished-tied : (a : Bool) (o : Open) → OpenTied used look a o → Tied used look a (finished o)
    finished-tied a (open_node k l fs) h = (h.0, own-finished a k l fs h.1, finished-in (asks a k l) fs h.2)

    pub finished-in : (c : ℕ → Bool) (fs : OpenFields) → OpenTiedIn used look c fs → TiedIn used look c (finished_fields fs)
    finished-in c ends h = tt
    finished-in c (f and fs) h = (finished-by (c zero) f h.0, finished-in (λ i. c (suc i)) fs h.1)

    finished-by : (a : Bool) (f : OpenField) → OpenTiedBy used look a f → TiedBy used look a (finished_field f)
    finished-by a gap h = tt
    finished-by a (child t) h = finished-tied a t h
    finished-by a (body p t) h = absurd h
    finished-by a (children ts) h = finished-all ts h
    finished-by a (list p None b ts) h = subst (λ c. TiedAll used look (whole_list p None c (finished_trees ts))) (sym h.2) (list-tied used look p (finished_trees ts) h.0 (finished-all ts h.3))
    finished-by a (list p (Some x) b ts) h = absurd (cc (h.1))

    pub finished-all : (ts : OpenTrees) → OpenTiedAll used look ts → TiedAll used look (finished_trees ts)
    finished-all nil h = tt
    finished-all (t next ts) h = (finished-tied true t h.0, finished-all ts h.1)
    finished-all (flanked bs t cs ts) h = absurd h

-- WHAT STATEMENTS DECLARE IS THE SAME BY NAMES

module _ (used : Text → Bool) (look : Text → Option ℕ) where
  declarator-same : (a : Bool) (d : Open) → OpenTied used look a d → declarator_name (plain.closed (forgotten d)) ≡ declarator_name (finished d)
  declarator-same a (open_node k l ends) h = refl
  declarator-same a (open_node k l (gap and fs)) h = refl
  declarator-same a (open_node k l (child (open_node j m gs) and fs)) h = refl
  declarator-same a (open_node k l (body p t and fs)) h = absurd (h.2.0)
  declarator-same a (open_node k l (children ts and fs)) h = refl
  declarator-same a (open_node k l (list p x b ts and fs)) h = refl

  names-same : (kind : Text) (ds : OpenTrees) → OpenTiedAll used look ds → declared_names kind (plain.closed_trees (forgotten_trees ds)) ≡ declared_names kind (finished_trees ds)
  names-same kind nil h = refl
  names-same kind (d next ds) h = λ i. record { name = declarator-same true d h.0 i; kind = kind } ∷ names-same kind ds h.1 i
  names-same kind (flanked bs t cs ts) h = absurd h

  fits-same : (a : Bool) (k : AstType) (l : Label) (fs : OpenFields) → OpenTied used look a (open_node k l fs) → binds_name (plain.closed_fields (forgotten_fields fs)) ≡ binds_name (finished_fields fs)
  fits-same a k l ends h = refl
  fits-same a k l (gap and fs) h = refl
  fits-same a k l (child (open_node j m gs) and fs) h = refl
  fits-same a k l (body p t and fs) h = absurd (h.2.0)
  fits-same a k l (children ts and fs) h = refl
  fits-same a k l (list p x b ts and fs) h = refl

  declarators-same : (ds : OpenTrees) → OpenTiedAll used look ds → declarators (plain.closed_trees (forgotten_trees ds)) ≡ declarators (finished_trees ds)
  declarators-same nil h = refl
  declarators-same (open_node k l fs next ds) h = λ i. (is_declarator k && fits-same true k l fs h.0 i) && declarators-same ds h.1 i
  declarators-same (flanked bs t cs ts) h = absurd h

  pub by-same : (t : Open) → OpenTied used look true t → (declared_by (plain.closed (forgotten t)) ≡ declared_by (finished t)) × (statement (plain.closed (forgotten t)) ≡ statement (finished t))
  by-same (open_node VariableDeclaration l ends) h = (refl, refl)
  by-same (open_node VariableDeclaration l (gap and fs)) h = (refl, refl)
  by-same (open_node VariableDeclaration l (child t and fs)) h = (refl, refl)
  by-same (open_node VariableDeclaration l (body p t and fs)) h = absurd (h.2.0)
  by-same (open_node VariableDeclaration l (children ds and fs)) h = (names-same (first_text l.texts) ds h.2.0, declarators-same ds h.2.0)
  by-same (open_node VariableDeclaration l (list p x b ts and fs)) h = (refl, refl)
  by-same (open_node _ l fs) h = (refl, refl)

  pub body-same : (ts : OpenTrees) → OpenTiedAll used look ts → (declared_in_body (plain.closed_trees (forgotten_trees ts)) ≡ declared_in_body (finished_trees ts)) × (body_of (plain.closed_trees (forgotten_trees ts)) ≡ body_of (finished_trees ts))
  body-same nil h = (refl, refl)
  body-same (t next ts) h = let first = by-same t h.0 in let rest = body-same ts h.1 in ((λ i. first.0 i ++ rest.0 i), (λ i. first.1 i && rest.1 i))
  body-same (flanked bs t cs ts) h = absurd h

-- WHAT IS DECLARED AROUND

pub or-parts : (a b : Bool) → (a || b) ≡ true → (a ≡ true) ⊎ (b ≡ true)
or-parts true b h = inl refl
or-parts false b h = inr h

pub or-right : (a b : Bool) → b ≡ true → (a || b) ≡ true
or-right true b h = refl
or-right false b h = h

pub or-left : (a b : Bool) → a ≡ true → (a || b) ≡ true
or-left a b h = rw h

pub bound-left : (bs cs : List Bound) (x : Text) → bound_by bs x ≡ true → bound_by (bs ++ cs) x ≡ true
bound-left bs cs x h = bound-append bs cs x ∙ or-left (bound_by bs x) (bound_by cs x) h

pub bound-right : (bs cs : List Bound) (x : Text) → bound_by cs x ≡ true → bound_by (bs ++ cs) x ≡ true
bound-right bs cs x h = bound-append bs cs x ∙ or-right (bound_by bs x) (bound_by cs x) h

one-bound : (b : Bound) (x : Text) (c d : Bool) → c ≡ true → d ≡ true → is_some (if d then Some b.symbol else None) ≡ true
one-bound b x c true e d = refl
one-bound b x c false e d = absurd (cc d)

asked-bound : (c : Bool) (b : Bound) (x : Text) → c ≡ true → bytes_eq b.name x ≡ true → bound_by (if c then b ∷ [] else []) x ≡ true
asked-bound true b x e d = one-bound b x true (bytes_eq b.name x) refl d
asked-bound false b x e d = absurd (cc e)

module _ (x : Text) where
  declarator-bound : (v : Bool) (b : Binding) (m : Label) (fs : Fields) → is_asked v (Binds b) ≡ true → binds_name fs ≡ true → bytes_eq (name_in fs) x ≡ true → bound_by (declared v (Binds b) (node VariableDeclarator m fs)) x ≡ true
  declarator-bound true b m (one (node Identifier c gs) then fs) e h d = bound-left _ _ x (bound-left _ _ x (asked-bound (is_asked true (Binds b)) (record { name = first_text c.texts; symbol = symbol_of c }) x e d))
  declarator-bound false b m (one (node Identifier c gs) then fs) e h d = bound-left _ _ x (bound-left _ _ x (asked-bound (is_asked false (Binds b)) (record { name = first_text c.texts; symbol = symbol_of c }) x e d))
  declarator-bound v b m (one (node k c gs) then fs) e h d = absurd (cc h)
  declarator-bound v b m done e h d = absurd (cc h)
  declarator-bound v b m (missing then fs) e h d = absurd (cc h)
  declarator-bound v b m (many ts then fs) e h d = absurd (cc h)
  declarator-bound v b m (statements ts then fs) e h d = absurd (cc h)

  declarators-bound : (v : Bool) (b : Binding) (kind : Text) (ds : Trees) → is_asked v (Binds b) ≡ true → declarators ds ≡ true → declares (declared_names kind ds) x ≡ true → bound_by (declared_among v (Binds b) ds) x ≡ true
  declarators-bound v b kind empty e h d = absurd (cc d)
  declarators-bound v b kind (node VariableDeclarator m fs before ds) e h d = at (or-parts (bytes_eq (name_in fs) x) (declares (declared_names kind ds) x) d) (λ g k. declarators-bound v b kind ds e g k)
    where
      both : (binds_name fs ≡ true) × (declarators ds ≡ true)
      both = and_parts (binds_name fs) (declarators ds) h

      at : (bytes_eq (name_in fs) x ≡ true) ⊎ (declares (declared_names kind ds) x ≡ true) → (declarators ds ≡ true → declares (declared_names kind ds) x ≡ true → bound_by (declared_among v (Binds b) ds) x ≡ true) → bound_by (declared v (Binds b) (node VariableDeclarator m fs) ++ declared_among v (Binds b) ds) x ≡ true
      at (inl g) rest = bound-left (declared v (Binds b) (node VariableDeclarator m fs)) (declared_among v (Binds b) ds) x (declarator-bound v b m fs e both.0 g)
      at (inr g) rest = bound-right (declared v (Binds b) (node VariableDeclarator m fs)) (declared_among v (Binds b) ds) x (rest both.1 g)
  declarators-bound v b kind (node k m fs before ds) e h d = absurd (cc h)

  abbrev pub BoundSomewhere : Trees → Type 0
  BoundSomewhere ts = (bound_by (declared_among false Top ts) x ≡ true) ⊎ (bound_by (declared_among true Top ts) x ≡ true)

  abbrev BoundBy : Tree → Type 0
  BoundBy t = (bound_by (declared false Top t) x ≡ true) ⊎ (bound_by (declared true Top t) x ≡ true)

  list-bound : (l : Label) (ds : Trees) (fs : Fields) (a b : Bool) → bytes_eq (first_text l.texts) (codes "var") ≡ a → bytes_eq (first_text l.texts) (codes "let") ≡ b → declarators ds ≡ true → declares (declared_names (first_text l.texts) ds) x ≡ true → BoundBy (node VariableDeclaration l (many ds then fs))
  list-bound l ds fs true b e d h g = inr (bound-left _ _ x (subst (λ c. bound_by (declared_among true (Binds (if c then Variable else if bytes_eq (first_text l.texts) (codes "let") then Let else Constant)) ds) x ≡ true) (sym e) (declarators-bound true Variable (first_text l.texts) ds refl h g)))
  list-bound l ds fs false true e d h g = inl (bound-left _ _ x (subst (λ c. bound_by (declared_among false (Binds (if c then Variable else if bytes_eq (first_text l.texts) (codes "let") then Let else Constant)) ds) x ≡ true) (sym e) (subst (λ c. bound_by (declared_among false (Binds (if c then Let else Constant)) ds) x ≡ true) (sym d) (declarators-bound false Let (first_text l.texts) ds refl h g))))
  list-bound l ds fs false false e d h g = inl (bound-left _ _ x (subst (λ c. bound_by (declared_among false (Binds (if c then Variable else if bytes_eq (first_text l.texts) (codes "let") then Let else Constant)) ds) x ≡ true) (sym e) (subst (λ c. bound_by (declared_among false (Binds (if c then Let else Constant)) ds) x ≡ true) (sym d) (declarators-bound false Constant (first_text l.texts) ds refl h g))))

  statement-bound : (t : Tree) → statement t ≡ true → declares (declared_by t) x ≡ true → BoundBy t
  statement-bound (node VariableDeclaration l (many ds then fs)) h g = list-bound l ds fs (bytes_eq (first_text l.texts) (codes "var")) (bytes_eq (first_text l.texts) (codes "let")) refl refl h g
  statement-bound (node VariableDeclaration l done) h g = absurd (cc g)
  statement-bound (node VariableDeclaration l (missing then fs)) h g = absurd (cc g)
  statement-bound (node VariableDeclaration l (one t then fs)) h g = absurd (cc g)
  statement-bound (node VariableDeclaration l (statements ts then fs)) h g = absurd (cc g)
  statement-bound (node _ l fs) h g = absurd (cc g)

  pub body-bound : (ts : Trees) → body_of ts ≡ true → declares (declared_in_body ts) x ≡ true → BoundSomewhere ts
  body-bound empty h g = absurd (cc g)
  body-bound (t before ts) h g = at (or-parts (declares (declared_by t) x) (declares (declared_in_body ts) x) (sym (list_any-append (is_named x) (declared_by t) (declared_in_body ts)) ∙ g)) (λ j k. body-bound ts j k)
    where
      both : (statement t ≡ true) × (body_of ts ≡ true)
      both = and_parts (statement t) (body_of ts) h

      first : BoundBy t → BoundSomewhere (t before ts)
      first (inl k) = inl (bound-left (declared false Top t) (declared_among false Top ts) x k)
      first (inr k) = inr (bound-left (declared true Top t) (declared_among true Top ts) x k)

      later : BoundSomewhere ts → BoundSomewhere (t before ts)
      later (inl k) = inl (bound-right (declared false Top t) (declared_among false Top ts) x k)
      later (inr k) = inr (bound-right (declared true Top t) (declared_among true Top ts) x k)

      at : (declares (declared_by t) x ≡ true) ⊎ (declares (declared_in_body ts) x ≡ true) → (body_of ts ≡ true → declares (declared_in_body ts) x ≡ true → BoundSomewhere ts) → BoundSomewhere (t before ts)
      at (inl k) rest = first (statement-bound t both.0 k)
      at (inr k) rest = later (rest both.1 k)

-- WHAT IS DECLARED HAS ITS SYMBOL

module _ (used : Text → Bool) (look : Text → Option ℕ) where
  abbrev pub Right : List Bound → Type 0
  Right [] = Unit {0}
  Right (b ∷ bs) = (b.symbol ≡ look b.name) × Right bs

  right-both : (bs cs : List Bound) → Right bs → Right cs → Right (bs ++ cs)
  right-both [] cs h g = g
  right-both (b ∷ bs) cs h g = (h.0, right-both bs cs h.1 g)

  right-if : (c : Bool) (bs : List Bound) → (c ≡ true → Right bs) → Right (if c then bs else [])
  right-if true bs h = h refl
  right-if false bs h = tt

  -- a place where no identifier is a name declares none
  abbrev pub FitsRole : Bool → Bool → Role → Type 0
  FitsRole v a r = a ≡ false → is_asked v r ≡ false

  reads-or-none : (v b : Bool) → is_asked v (if b then reads else Nothing) ≡ false
  reads-or-none v true = refl
  reads-or-none v false = refl

  pub role-fits : (v a : Bool) (r : Role) (k : AstType) (l : Label) (fs : Fields) (i : ℕ) → is_part_kind k ≡ true → FitsRole v a r → FitsRole v (asks a k l i) (role_at r k l fs i)
  role-fits v a r ParenthesizedExpression l fs zero h f e = f e
  role-fits v a r ParenthesizedExpression l fs (suc i) h f e = absurd (cc e)
  role-fits v a r VariableDeclarator l fs zero h f e = f e
  role-fits v a r VariableDeclarator l fs (suc i) h f e = absurd (cc e)
  role-fits v a r MemberExpression l fs zero h f e = absurd (cc e)
  role-fits v a r MemberExpression l fs (suc zero) h f e = reads-or-none v (flag_at 0 l.flags)
  role-fits v a r MemberExpression l fs (suc (suc i)) h f e = absurd (cc e)
  role-fits v a r k l fs i h f e = absurd (cc (h, e))

  own-if : (v a : Bool) (r : Role) (l : Label) → FitsRole v a r → NameTied used look a l → is_asked v r ≡ true → symbol_of l ≡ look (first_text l.texts)
  own-if v true r l f h e = h.1
  own-if v false r l f h e = absurd (let no : true ≡ false = sym e ∙ f refl in cc no)

  own-right : (v a : Bool) (r : Role) (k : AstType) (l : Label) (fs : Fields) → FitsRole v a r → OwnTied used look a k l fs → Right (own_declared v r k l)
  own-right v a r Identifier l fs f h = right-if (is_asked v r) (record { name = first_text l.texts; symbol = symbol_of l } ∷ []) (λ e. (own-if v a r l f h.1 e, tt))
  own-right v a r _ l fs f h = tt

  mutual
    right-tree : (v a : Bool) (r : Role) (t : Tree) → FitsRole v a r → Tied used look a t → Right (declared v r t)
    right-tree v a r (node k l fs) f h =
        right-both (own_declared v r k l) (declared_within v (reaches_out v k) (role_at r k l fs) fs) (own-right v a r k l fs f h.1) (right-in v (asks a k l) (reaches_out v k) (role_at r k l fs) fs (λ i. role-fits v a r k l fs i h.0 f) h.2)

    pub right-in : (v : Bool) (c counts : ℕ → Bool) (roles : ℕ → Role) (fs : Fields) → ((i : ℕ) → FitsRole v (c i) (roles i)) → TiedIn used look c fs → Right (declared_within v counts roles fs)
    right-in v c counts roles done f h = tt
    right-in v c counts roles (w then fs) f h =
        right-both (if counts zero then declared_around v (roles zero) w else []) (declared_within v (λ i. counts (suc i)) (λ i. roles (suc i)) fs)
        (right-if (counts zero) (declared_around v (roles zero) w) (λ e. right-by v (c zero) (roles zero) w (f zero) h.0))
        (right-in v (λ i. c (suc i)) (λ i. counts (suc i)) (λ i. roles (suc i)) fs (λ i. f (suc i)) h.1)

    right-by : (v a : Bool) (r : Role) (w : Field) → FitsRole v a r → TiedBy used look a w → Right (declared_around v r w)
    right-by v a r missing f h = tt
    right-by v a r (one t) f h = right-tree v a r t f h
    right-by v a r (many ts) f h = right-all v r ts h
    right-by v a r (statements ts) f h = right-all v r ts h

    right-all : (v : Bool) (r : Role) (ts : Trees) → TiedAll used look ts → Right (declared_among v r ts)
    right-all v r empty h = tt
    right-all v r (t before ts) h = right-both (declared v r t) (declared_among v r ts) (right-tree v true r t (λ e. absurd (cc e)) h.0) (right-all v r ts h.1)

  sought-one : (b : Bound) (x : Text) (o : Option (Option ℕ)) (c : Bool) → bytes_eq b.name x ≡ c → b.symbol ≡ look b.name → (is_some o ≡ true → o ≡ Some (look x)) → is_some (if c then Some b.symbol else o) ≡ true → (if c then Some b.symbol else o) ≡ Some (look x)
  sought-one b x o true e h d k = ap (λ (s : Option ℕ). Some s) (h ∙ ap look (bytes_eq-equal b.name x e))
  sought-one b x o false e h d k = d k

  pub sought-right : (bs : List Bound) (x : Text) → Right bs → bound_by bs x ≡ true → sought bs x ≡ Some (look x)
  sought-right [] x h e = absurd (cc e)
  sought-right (b ∷ bs) x h e = sought-one b x (sought bs x) (bytes_eq b.name x) refl h.0 (sought-right bs x h.1) e
