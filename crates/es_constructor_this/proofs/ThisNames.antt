-- A declaration of a name for `this` has one shape: `var x = this`, where x is one of the names made; and it stays where constructors' bodies become others.
use Rattle.std.proofs.Common.{◌≡◌, ◌∙◌, ℕ, suc, refl, ap, subst}
use Rattle.std.specs.Prelude.{Bool, true, false, ◌&&◌, Some, None, if◌then◌else◌}
use Rattle.std.proofs.lemmas.Bool.{and_parts}
use Rattle.es_tree.specs.Names.{first_text}
use Rattle.es_tree.specs.Tree.{Tree, node, Label, Fields, done, ◌then◌, one, many, Trees, empty, ◌before◌, label_of}
use Rattle.es_tree.specs.Words.{Text}
use Rattle.es_tree.specs.declared.ast_type.AstType.TheVariants.{Identifier, ThisExpression, VariableDeclaration, VariableDeclarator}
use Rattle.es_super_calls.specs.Constructors.{standing_in}
use Rattle.es_super_calls.specs.declared.standing.ClassStanding.{ClassStanding}
use Rattle.es_set_this.specs.ConstructorThis.{is_made_name, is_this, is_var, this_name}
use Rattle.es_constructor_this.proofs.SetKept.{here-other}
use Rattle.es_constructor_this.proofs.Written.{Writes, write_here, write_this, write_this_among, write_this_in}

-- `var x = this`
abbrev pub this_declared : Label → Label → Label → Label → Tree
this_declared m k i e = node VariableDeclaration m (many (node VariableDeclarator k (one (node Identifier i done) then (one (node ThisExpression e done) then done)) before empty) then done)

module _ (made : Text → Bool) where
  pub data DeclaresMade : Tree → Text → Type 0 where
    declares_made : (m k i e : Label) → is_var m.texts ≡ true → made (first_text i.texts) ≡ true → DeclaresMade (this_declared m k i e) (first_text i.texts)

  with-this : (m k i : Label) (e : Tree) → is_var m.texts ≡ true → made (first_text i.texts) ≡ true → is_this e ≡ true →
      DeclaresMade (node VariableDeclaration m (many (node VariableDeclarator k (one (node Identifier i done) then (one e then done)) before empty) then done)) (first_text i.texts)
  with-this m k i (node ThisExpression n done) var named this = declares_made m k i n var named
  with-this m k i _ var named this = absurd (cc this)

  with-name : (m k : Label) (x e : Tree) → is_var m.texts ≡ true → is_made_name made x ≡ true → is_this e ≡ true →
      DeclaresMade (node VariableDeclaration m (many (node VariableDeclarator k (one x then (one e then done)) before empty) then done)) (first_text (label_of x).texts)
  with-name m k (node Identifier i done) e var named this = with-this m k i e var named this
  with-name m k _ e var named this = absurd (cc named)

  with-both : (m k : Label) (x e : Tree) (y : Text) (b : Bool) → (is_var m.texts && is_made_name made x && is_this e) ≡ b → (if b then Some (first_text (label_of x).texts) else None) ≡ Some y →
      DeclaresMade (node VariableDeclaration m (many (node VariableDeclarator k (one x then (one e then done)) before empty) then done)) y
  with-both m k x e y true h same =
      let parts = and_parts (is_var m.texts && is_made_name made x) (is_this e) h in
      let both = and_parts (is_var m.texts) (is_made_name made x) parts.0 in
      let it = with-name m k x e both.0 both.1 parts.1 in
      subst (λ z. DeclaresMade (node VariableDeclaration m (many (node VariableDeclarator k (one x then (one e then done)) before empty) then done)) z) (cc same) it
  with-both m k x e y false h same = absurd (cc same)

  pub declares-made : (d : Tree) (y : Text) → this_name made d ≡ Some y → DeclaresMade d y
  declares-made (node VariableDeclaration m (many (node VariableDeclarator k (one x then (one e then done)) before empty) then done)) y h = with-both m k x e y (is_var m.texts && is_made_name made x && is_this e) refl h
  declares-made d y h = absurd (cc h)

module _ (write : Writes) (made : Text → Bool) where
  name-kept : (s : ClassStanding) (t : Tree) → is_made_name made (write_this write made s t) ≡ is_made_name made t
  name-kept s (node Identifier l fs) = ap (λ gs. is_made_name made (node Identifier l gs)) (here-other write made s Identifier (write_this_in write made (standing_in s Identifier l fs) fs) refl) ∙ at (standing_in s Identifier l fs) fs
    where
      at : (c : ℕ → ClassStanding) (fs : Fields) → is_made_name made (node Identifier l (write_this_in write made c fs)) ≡ is_made_name made (node Identifier l fs)
      at c done = refl
      at c (f then fs) = refl
  name-kept s (node k l fs) = refl

  this-kept : (s : ClassStanding) (t : Tree) → is_this (write_this write made s t) ≡ is_this t
  this-kept s (node ThisExpression l fs) = ap (λ gs. is_this (node ThisExpression l gs)) (here-other write made s ThisExpression (write_this_in write made (standing_in s ThisExpression l fs) fs) refl) ∙ at (standing_in s ThisExpression l fs) fs
    where
      at : (c : ℕ → ClassStanding) (fs : Fields) → is_this (node ThisExpression l (write_this_in write made c fs)) ≡ is_this (node ThisExpression l fs)
      at c done = refl
      at c (f then fs) = refl
  this-kept s (node k l fs) = refl

  label-kept : (s : ClassStanding) (t : Tree) → label_of (write_this write made s t) ≡ label_of t
  label-kept s (node k l fs) = refl

  abbrev declared_with : Label → Label → Fields → Trees → Fields → Tree
  declared_with m k gs ts fs = node VariableDeclaration m (many (node VariableDeclarator k gs before ts) then fs)

  declarator-kept : (m k : Label) (c : ℕ → ClassStanding) (s : ClassStanding) (d : ℕ → ClassStanding) (gs : Fields) (ts : Trees) (fs : Fields) →
      this_name made (declared_with m k (write_this_in write made c gs) (write_this_among write made s ts) (write_this_in write made d fs)) ≡ this_name made (declared_with m k gs ts fs)
  declarator-kept m k c s d (one x then (one e then done)) empty done = λ j. if is_var m.texts && name-kept (c 0) x j && this-kept (c 1) e j then Some (first_text (label-kept (c 0) x j).texts) else None
  declarator-kept m k c s d gs ts fs = refl

  fields-kept : (m : Label) (c : ℕ → ClassStanding) (fs : Fields) → this_name made (node VariableDeclaration m (write_this_in write made c fs)) ≡ this_name made (node VariableDeclaration m fs)
  fields-kept m c (many (node VariableDeclarator k gs before ts) then fs) =
      let a : ℕ → ClassStanding = standing_in (c 0) VariableDeclarator k gs in
      ap (λ hs. this_name made (declared_with m k hs (write_this_among write made (c 0) ts) (write_this_in write made (λ i. c (suc i)) fs))) (here-other write made (c 0) VariableDeclarator (write_this_in write made a gs) refl)
      ∙ declarator-kept m k a (c 0) (λ i. c (suc i)) gs ts fs
  fields-kept m c fs = refl

  pub this-name-kept : (s : ClassStanding) (d : Tree) → this_name made (write_this write made s d) ≡ this_name made d
  this-name-kept s (node VariableDeclaration m fs) =
      let c : ℕ → ClassStanding = standing_in s VariableDeclaration m fs in
      ap (λ gs. this_name made (node VariableDeclaration m gs)) (here-other write made s VariableDeclaration (write_this_in write made c fs) refl) ∙ fields-kept m c fs
  this-name-kept s (node k l fs) = refl

  pub declared-kept : (s : ClassStanding) (m k i e : Label) → write_this write made s (this_declared m k i e) ≡ this_declared m k i e
  declared-kept s m k i e =
      let gs : Fields = one (node Identifier i done) then (one (node ThisExpression e done) then done) in
      let fs : Fields = many (node VariableDeclarator k gs before empty) then done in
      let c : ℕ → ClassStanding = standing_in s VariableDeclaration m fs in
      let d : ℕ → ClassStanding = standing_in (c 0) VariableDeclarator k gs in
      let leaves : write_this_in write made d gs ≡ gs = λ j. one (node Identifier i (here-other write made (d 0) Identifier done refl j)) then (one (node ThisExpression e (here-other write made (d 1) ThisExpression done refl j)) then done) in
      let inner : write_here write made (c 0) VariableDeclarator (write_this_in write made d gs) ≡ gs = here-other write made (c 0) VariableDeclarator (write_this_in write made d gs) refl ∙ leaves in
      ap (λ hs. node VariableDeclaration m hs) (here-other write made s VariableDeclaration (write_this_in write made c fs) refl ∙ (λ j. many (node VariableDeclarator k (inner j) before empty) then done))
