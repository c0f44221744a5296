-- `var` statements without values, and trees that are the same but for these in lists of statements, at any depth, and but for some places.
use Rattle.std.specs.Prelude.{◌≡◌, ℕ, zero, suc, Bool, true, false, List, [], ◌∷◌, ◌++◌, Some, codes}
use Rattle.es_tree.specs.Words.{Text}
use Rattle.es_tree.specs.Names.{first_text}
use Rattle.es_tree.specs.Scopes.{Declared}
use Rattle.es_tree.specs.Tree.{Tree, node, Label, Fields, done, ◌then◌, Field, missing, one, many, statements, Trees, empty, ◌before◌}
use Rattle.es_tree.specs.declared.ast_type.AstType.{AstType}
use Rattle.es_tree.specs.declared.ast_type.AstType.TheVariants.{BlockStatement, CatchClause, ForInStatement, ForOfStatement, ForStatement, Identifier, SwitchCase, SwitchStatement, VariableDeclaration, VariableDeclarator}
use Rattle.es_runs.specs.Alike.{Level, is_bad, the_value}
use Rattle.es_statement_runs.specs.Names.{lexical_in, names_of_all, own_names, own_use, using_in}
use Rattle.es_statement_runs.specs.Kinds.{label_in}
use Rattle.es_statement_runs.specs.Places.{Take, all_good, take, takes_of, value_taken}

-- names without values
pub data BareDeclarators : Trees → Type 0 where
  none_bare : BareDeclarators empty
  one_bare : {l m : Label} {fs : Fields} {ds : Trees} → BareDeclarators ds → BareDeclarators (node VariableDeclarator l (one (node Identifier m fs) then missing then done) before ds)

-- `var a, b;`
pub data BareVar : Tree → Type 0 where
  bare_var : {l : Label} {ds : Trees} → l.texts ≡ Some (codes "var") ∷ [] → BareDeclarators ds → BareVar (node VariableDeclaration l (many ds then done))

-- The names that scopes around a field of a node declare, where the node's own scope declares es and those around the node declare ds, as `inside` has
-- them.
abbrev pub names_around : AstType → List Declared → List Declared → ℕ → List Declared
names_around BlockStatement es ds i = es ++ ds
names_around ForStatement es ds i = es ++ ds
names_around ForInStatement es ds i = es ++ ds
names_around ForOfStatement es ds i = es ++ ds
names_around CatchClause es ds i = es ++ ds
names_around SwitchStatement es ds (suc i) = es ++ ds
names_around _ es ds i = ds

-- As `Close`, but that a list of a block or of a case may have such statements more, before any of its statements, and that rows know which names the
-- scopes around declare. The list of the program is one of `BesideList`, whose elements are taken with what they say or without.
mutual
  pub data Beside (bad : Level → Text → Bool) (R : List Declared → Take → Tree → Tree → Type 0) : List Declared → Take → Tree → Tree → Type 0 where
    at_place : {ds : List Declared} {t : Take} {a b : Tree} → R ds t a b → Beside bad R ds t a b
    in_node : {ds : List Declared} {t : Take} {k : AstType} {l m : Label} {fs gs : Fields} → is_bad bad t.need.level k l.texts ≡ false → m.texts ≡ l.texts → m.flags ≡ l.flags →
        own_names k gs ≡ own_names k fs → own_use k gs ≡ own_use k fs → label_in k gs ≡ label_in k fs → all_good bad (names_of_all (own_names k fs)) ≡ true →
        BesideFields bad R (names_around k (own_names k fs) ds) (takes_of t k l.texts l.flags) fs gs → Beside bad R ds t (node k l fs) (node k m gs)
    in_block : {ds : List Declared} {t : Take} {l m : Label} {ts us : Trees} → lexical_in us ≡ lexical_in ts → using_in us ≡ using_in ts → all_good bad (names_of_all (lexical_in ts)) ≡ true →
        BesideList bad R (lexical_in ts ++ ds) false ts us → Beside bad R ds t (node BlockStatement l (statements ts then done)) (node BlockStatement m (statements us then done))
    in_case : {ds : List Declared} {t : Take} {l m : Label} {f g : Field} {ts us : Trees} → BesideField bad R ds value_taken f g →
        BesideList bad R ds false ts us → Beside bad R ds t (node SwitchCase l (f then statements ts then done)) (node SwitchCase m (g then statements us then done))

  pub data BesideFields (bad : Level → Text → Bool) (R : List Declared → Take → Tree → Tree → Type 0) : (ℕ → List Declared) → (ℕ → Take) → Fields → Fields → Type 0 where
    beside_done : {d : ℕ → List Declared} {c : ℕ → Take} → BesideFields bad R d c done done
    beside_then : {d : ℕ → List Declared} {c : ℕ → Take} {f g : Field} {fs gs : Fields} → BesideField bad R (d zero) (c zero) f g → BesideFields bad R (λ i. d (suc i)) (λ i. c (suc i)) fs gs → BesideFields bad R d c (f then fs) (g then gs)

  pub data BesideField (bad : Level → Text → Bool) (R : List Declared → Take → Tree → Tree → Type 0) : List Declared → Take → Field → Field → Type 0 where
    beside_missing : {ds : List Declared} {t : Take} → BesideField bad R ds t missing missing
    beside_one : {ds : List Declared} {t : Take} {a b : Tree} → Beside bad R ds t a b → BesideField bad R ds t (one a) (one b)
    beside_many : {ds : List Declared} {t : Take} {xs ys : Trees} → BesideTrees bad R ds t xs ys → BesideField bad R ds t (many xs) (many ys)
    beside_statements : {ds : List Declared} {t : Take} {xs ys : Trees} → BesideTrees bad R ds t xs ys → BesideField bad R ds t (statements xs) (statements ys)

  pub data BesideTrees (bad : Level → Text → Bool) (R : List Declared → Take → Tree → Tree → Type 0) : List Declared → Take → Trees → Trees → Type 0 where
    beside_empty : {ds : List Declared} {t : Take} → BesideTrees bad R ds t empty empty
    beside_before : {ds : List Declared} {t : Take} {a b : Tree} {xs ys : Trees} → Beside bad R ds t a b → BesideTrees bad R ds t xs ys → BesideTrees bad R ds t (a before xs) (b before ys)

  pub data BesideList (bad : Level → Text → Bool) (R : List Declared → Take → Tree → Tree → Type 0) : List Declared → Bool → Trees → Trees → Type 0 where
    list_ends : {ds : List Declared} {more : Bool} → BesideList bad R ds more empty empty
    both_have : {ds : List Declared} {more : Bool} {a b : Tree} {ts us : Trees} → Beside bad R ds (take the_value more) a b → BesideList bad R ds more ts us → BesideList bad R ds more (a before ts) (b before us)
    first_has : {ds : List Declared} {more : Bool} {a : Tree} {ts us : Trees} → BareVar a → BesideList bad R ds more ts us → BesideList bad R ds more (a before ts) us
    second_has : {ds : List Declared} {more : Bool} {b : Tree} {ts us : Trees} → BareVar b → BesideList bad R ds more ts us → BesideList bad R ds more ts (b before us)

-- TEMPORARIES PUT IN: the same trees but that such statements of fresh names are put into lists of blocks and cases, or such names are put into
-- `var` statements without values that stand there

pub data GrownDeclarators (fresh : Text → Bool) : Trees → Trees → Type 0 where
  none_grown : GrownDeclarators fresh empty empty
  as_named : {l m n o : Label} {fs gs : Fields} {ds es : Trees} → o.texts ≡ m.texts → GrownDeclarators fresh ds es →
      GrownDeclarators fresh (node VariableDeclarator l (one (node Identifier m fs) then missing then done) before ds) (node VariableDeclarator n (one (node Identifier o gs) then missing then done) before es)
  one_grown : {n o : Label} {gs : Fields} {ds es : Trees} → fresh (first_text o.texts) ≡ true → GrownDeclarators fresh ds es →
      GrownDeclarators fresh ds (node VariableDeclarator n (one (node Identifier o gs) then missing then done) before es)

mutual
  pub data PutIn (fresh : Text → Bool) : Tree → Tree → Type 0 where
    put_node : {k : AstType} {l m : Label} {fs gs : Fields} → m.texts ≡ l.texts → m.flags ≡ l.flags → PutFields fresh fs gs → PutIn fresh (node k l fs) (node k m gs)
    put_block : {l m : Label} {ts us : Trees} → m.texts ≡ l.texts → PutList fresh ts us → PutIn fresh (node BlockStatement l (statements ts then done)) (node BlockStatement m (statements us then done))
    put_case : {l m : Label} {f g : Field} {ts us : Trees} → m.texts ≡ l.texts → PutField fresh f g → PutList fresh ts us →
        PutIn fresh (node SwitchCase l (f then statements ts then done)) (node SwitchCase m (g then statements us then done))

  pub data PutFields (fresh : Text → Bool) : Fields → Fields → Type 0 where
    put_done : PutFields fresh done done
    put_then : {f g : Field} {fs gs : Fields} → PutField fresh f g → PutFields fresh fs gs → PutFields fresh (f then fs) (g then gs)

  pub data PutField (fresh : Text → Bool) : Field → Field → Type 0 where
    put_missing : PutField fresh missing missing
    put_one : {a b : Tree} → PutIn fresh a b → PutField fresh (one a) (one b)
    put_many : {ts us : Trees} → PutTrees fresh ts us → PutField fresh (many ts) (many us)
    put_statements : {ts us : Trees} → PutTrees fresh ts us → PutField fresh (statements ts) (statements us)

  pub data PutTrees (fresh : Text → Bool) : Trees → Trees → Type 0 where
    put_empty : PutTrees fresh empty empty
    put_before : {a b : Tree} {ts us : Trees} → PutIn fresh a b → PutTrees fresh ts us → PutTrees fresh (a before ts) (b before us)

  pub data PutList (fresh : Text → Bool) : Trees → Trees → Type 0 where
    put_end : PutList fresh empty empty
    put_statement : {a b : Tree} {ts us : Trees} → PutIn fresh a b → PutList fresh ts us → PutList fresh (a before ts) (b before us)
    new_var : {m : Label} {es ts us : Trees} → m.texts ≡ Some (codes "var") ∷ [] → GrownDeclarators fresh empty es → PutList fresh ts us → PutList fresh ts (node VariableDeclaration m (many es then done) before us)
    grown_var : {l m : Label} {ds es ts us : Trees} → l.texts ≡ Some (codes "var") ∷ [] → m.texts ≡ Some (codes "var") ∷ [] → GrownDeclarators fresh ds es → PutList fresh ts us →
        PutList fresh (node VariableDeclaration l (many ds then done) before ts) (node VariableDeclaration m (many es then done) before us)
