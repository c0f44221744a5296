-- What a step leaves of a tree, as far as module requests and exported names see it.
use Rattle.std.proofs.Common.{◌≡◌, ℕ, zero, suc, refl, sym, ◌∙◌, List, [], ◌++◌}
use Rattle.std.specs.Prelude.{Bool, true, false}
use Rattle.es_tree.specs.Tree.{Tree, node, Label, Fields, done, ◌then◌, Field, one, many, Trees, empty, ◌before◌, kind_of}
use Rattle.es_tree.specs.Words.{Text}
use Rattle.es_tree.specs.declared.ast_type.AstType.{AstType}
use Rattle.es_tree.specs.declared.ast_type.AstType.TheVariants.{ArrayPattern, AssignmentPattern, ClassDeclaration, ExportAllDeclaration, ExportDefaultDeclaration, ExportNamedDeclaration, ExportSpecifier, FunctionDeclaration, Identifier, ImportDeclaration, ObjectPattern, PatternProperty, Program, RestElement, StringLiteral, VariableDeclaration, VariableDeclarator}
use Rattle.es_module_names.specs.Modules.{texts_among, texts_at, texts_by}

-- kinds of nodes off which nothing is read
abbrev pub is_quiet : AstType → Bool
is_quiet Program = false
is_quiet VariableDeclaration = false
is_quiet VariableDeclarator = false
is_quiet FunctionDeclaration = false
is_quiet ClassDeclaration = false
is_quiet ImportDeclaration = false
is_quiet ExportNamedDeclaration = false
is_quiet ExportSpecifier = false
is_quiet ExportDefaultDeclaration = false
is_quiet ExportAllDeclaration = false
is_quiet Identifier = false
is_quiet StringLiteral = false
is_quiet ObjectPattern = false
is_quiet PatternProperty = false
is_quiet ArrayPattern = false
is_quiet AssignmentPattern = false
is_quiet RestElement = false
is_quiet _ = true

-- fields into which nothing looks: a default value, the key in a pattern, and those of a program or of a quiet node below a statement
abbrev pub is_unread : AstType → ℕ → Bool
is_unread AssignmentPattern (suc zero) = true
is_unread PatternProperty zero = true
is_unread Program i = true
is_unread k i = is_quiet k

-- A quiet node became another, or fields changed.
mutual
  pub data Held : Tree → Tree → Type 0 where
    stays : {t : Tree} → Held t t
    quiet : {t u : Tree} → is_quiet (kind_of t) ≡ true → is_quiet (kind_of u) ≡ true → Held t u
    inside : {k : AstType} {l : Label} {fs gs : Fields} → HeldIn (is_unread k) fs gs → Held (node k l fs) (node k l gs)

  -- of fields, where it is said of each whether it is unread
  pub data HeldIn : (ℕ → Bool) → Fields → Fields → Type 0 where
    ends : {unread : ℕ → Bool} → HeldIn unread done done
    more : {unread : ℕ → Bool} {f g : Field} {fs gs : Fields} → HeldBy (unread zero) f g → HeldIn (λ i. unread (suc i)) fs gs → HeldIn unread (f then fs) (g then gs)

  pub data HeldBy : Bool → Field → Field → Type 0 where
    same : {b : Bool} {f : Field} → HeldBy b f f
    unseen : {b : Bool} {f g : Field} → b ≡ true → HeldBy b f g
    child_held : {b : Bool} {t u : Tree} → Held t u → HeldBy b (one t) (one u)
    children_held : {b : Bool} {ts us : Trees} → HeldAll ts us → HeldBy b (many ts) (many us)

  pub data HeldAll : Trees → Trees → Type 0 where
    none : HeldAll empty empty
    some : {t u : Tree} {ts us : Trees} → Held t u → HeldAll ts us → HeldAll (t before ts) (u before us)

pub held-fields : (unread : ℕ → Bool) (fs : Fields) → HeldIn unread fs fs
held-fields unread done = ends
held-fields unread (f then fs) = more same (held-fields (λ i. unread (suc i)) fs)

pub held-trees : (ts : Trees) → HeldAll ts ts
held-trees empty = none
held-trees (t before ts) = some stays (held-trees ts)

-- WHAT IS READ is nothing of a quiet node, and the same after a change in fields

pub record Reads (read : Tree → List Text) : Type 0 where
  pub nothing : (t : Tree) → is_quiet (kind_of t) ≡ true → read t ≡ []
  pub within : (k : AstType) (l : Label) (fs gs : Fields) → HeldIn (is_unread k) fs gs → read (node k l gs) ≡ read (node k l fs)

module _ (read : Tree → List Text) (r : Reads read) where
  pub held-text : (t u : Tree) → Held t u → read u ≡ read t
  held-text t u stays = refl
  held-text t u (quiet e d) = r.nothing u d ∙ sym (r.nothing t e)
  held-text t u (inside {k = k} {l = l} {fs = fs} {gs = gs} c) = r.within k l fs gs c

  pub held-among : (ts us : Trees) → HeldAll ts us → texts_among read us ≡ texts_among read ts
  held-among ts us none = refl
  held-among ts us (some {t = t} {u = u} {ts = ts'} {us = us'} c cs) = λ i. held-text t u c i ++ held-among ts' us' cs i

  pub held-by : (b : Bool) (f g : Field) → b ≡ false → HeldBy b f g → texts_by read g ≡ texts_by read f
  held-by b f g e same = refl
  held-by b f g e (unseen d) = absurd (cc (e, d))
  held-by b f g e (child_held {t = t} {u = u} c) = held-text t u c
  held-by b f g e (children_held {ts = ts} {us = us} c) = held-among ts us c

  -- in a field of a node all of whose fields are read
  pub held-at : (n : ℕ) (unread : ℕ → Bool) (fs gs : Fields) → ((i : ℕ) → unread i ≡ false) → HeldIn unread fs gs → texts_at read n gs ≡ texts_at read n fs
  held-at n unread fs gs e ends = refl
  held-at zero unread fs gs e (more {f = f} {g = g} c cs) = held-by (unread zero) f g (e zero) c
  held-at (suc n) unread fs gs e (more {fs = fs'} {gs = gs'} c cs) = held-at n (λ i. unread (suc i)) fs' gs' (λ i. e (suc i)) cs
