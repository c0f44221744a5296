-- Trees that are the same but at one place, wherever that is.
use Rattle.es_tree.specs.Tree.{Tree, node, Label, Fields, ◌then◌, Field, one, many, statements, Trees, ◌before◌}
use Rattle.es_tree.specs.declared.ast_type.AstType.{AstType}

mutual
  pub data Changed (A : Tree → Tree → Type 0) : Tree → Tree → Type 0 where
    here : {a b : Tree} → A a b → Changed A a b
    below : {k : AstType} {l : Label} {fs gs : Fields} → ChangedIn A fs gs → Changed A (node k l fs) (node k l gs)

  pub data ChangedIn (A : Tree → Tree → Type 0) : Fields → Fields → Type 0 where
    first_of : {f g : Field} {fs : Fields} → ChangedBy A f g → ChangedIn A (f then fs) (g then fs)
    later_of : {f : Field} {fs gs : Fields} → ChangedIn A fs gs → ChangedIn A (f then fs) (f then gs)

  pub data ChangedBy (A : Tree → Tree → Type 0) : Field → Field → Type 0 where
    one_of : {a b : Tree} → Changed A a b → ChangedBy A (one a) (one b)
    many_of : {ts us : Trees} → ChangedAmong A ts us → ChangedBy A (many ts) (many us)
    statements_of : {ts us : Trees} → ChangedAmong A ts us → ChangedBy A (statements ts) (statements us)

  pub data ChangedAmong (A : Tree → Tree → Type 0) : Trees → Trees → Type 0 where
    head_of : {a b : Tree} {ts : Trees} → Changed A a b → ChangedAmong A (a before ts) (b before ts)
    tail_of : {a : Tree} {ts us : Trees} → ChangedAmong A ts us → ChangedAmong A (a before ts) (a before us)
