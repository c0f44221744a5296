-- Where `x = this;` is put.
use Rattle.std.proofs.Common.{Global, Vec, ◌≡◌, ◌∙◌, ◌++◌, ◌+◌, ◌≤◌, ◌<◌, ◌∷◌, Bool, List, [], None, Some, ap, arith, drop, false, get_or, length, map, refl, set, slice_index_or, slice_set, subst, suc, sym, take, true, zero, ℕ}
use Rattle.std.proofs.lemmas.Bool.{and_parts}
use Rattle.std.proofs.lemmas.Bool.Decides.{nat_tests}
use Rattle.std.specs.Prelude.{◌&&◌, Option, insert, if◌then◌else◌, nat_lt}
use Rattle.std.specs.List.{position, position_or_len}
use Rattle.std.proofs.lemmas.List.Quantifiers.{position-Some}
use Rattle.std.proofs.lemmas.List.Sums.{fails_before_first}
use Rattle.es_tree.specs.Names.{first_text}
use Rattle.es_tree.specs.Tree.{Tree, Trees, ◌then◌, done, ◌before◌, empty, label_of, many, node, one, trees, statements}
use Rattle.es_tree.specs.Views.{plain_field, plain_fields}
use Rattle.es_tree.specs.Words.{Text}
use Rattle.es_tree.specs.declared.ast_type.AstType.TheVariants.{Identifier, VariableDeclaration, VariableDeclarator}
use Rattle.es_tree.specs.declared.node.Field.{Field as NodeField}
use Rattle.es_tree.specs.declared.node.Field.TheVariants.{Many, Missing, One, Statements}
use Rattle.es_set_this.specs.ConstructorThis.{after_super, in_arguments, is_made_name, is_this, is_var, names_among, set_behind, set_in_body, set_statement, set_statements, this_name, up_to_super, with_this_set, without_value}
use Rattle.es_super_calls.specs.SuperCalls.{is_super_statement}
use Rattle.lower_fresh_names.specs.Names.{name_with}
use Rattle.lower_constructor_this.specs.Parts.{declaration_without, name_to_set, unless_named}
use Rattle.lower_constructor_this.proofs.CallStatements.{no-statement, statement-stays}
use Rattle.lower_constructor_this.proofs.Passed.{ListPassed, list-left, list-whole}

-- BEHIND THE FIRST CALL OF `super`

past : (x t : Tree) (ts us : List Tree) → is_super_statement t ≡ false → trees us ≡ with_this_set x (up_to_super x (trees ts)) → trees (after_super x t ∷ us) ≡ with_this_set x (up_to_super x (trees (t ∷ ts)))
past x t ts us h e = rw (h, no-statement x t) (ap (λ vs. after_super x t before vs) e)

no-calls : (x : Tree) (ts : List Tree) → ((k : ℕ) → k < length ts → is_super_statement (get_or ts k x) ≡ false) → trees (map (after_super x) ts) ≡ with_this_set x (up_to_super x (trees ts))
no-calls x [] h = refl
no-calls x (t ∷ ts) h = past x t ts (map (after_super x) ts) (h 0 (omega arith)) (no-calls x ts (λ k l. h (suc k) (omega (arith, l))))

not-below : (b : Bool) (n : ℕ) → None ≡ (if b then Some n else None) → b ≡ false
not-below true n h = absurd (cc h)
not-below false n h = refl

pub set-nowhere : (x : Tree) (ts us : List Tree) (n : ℕ) → None ≡ position is_super_statement ts → length ts ≤ n → ListPassed x ts us n → trees us ≡ with_this_set x (up_to_super x (trees ts))
set-nowhere x ts us m h all-of-them passed =
    let n = position_or_len is_super_statement ts in
    let late = not-below (nat_lt n (length ts)) n h in
    let all : length ts ≤ n = grind (arith, nat_tests) in
    ap trees (list-whole x ts us m all-of-them passed) ∙ no-calls x ts (λ k l. fails_before_first is_super_statement ts k x (omega (arith, l, all)))

abbrev call-set : Tree → List Tree → ℕ → Tree → List Tree
call-set x ts i a = insert (set (map (after_super x) (take i ts) ++ drop i ts) i a) (suc i) (set_statement x)

at-call : (x d : Tree) (ts : List Tree) (i : ℕ) → i < length ts → is_super_statement (get_or ts i d) ≡ true → ((k : ℕ) → k < i → is_super_statement (get_or ts k d) ≡ false)
    → trees (call-set x ts i (in_arguments x (get_or ts i d))) ≡ with_this_set x (up_to_super x (trees ts))
at-call x d [] i l h before_it = absurd (omega (arith, l))
at-call x d (t ∷ ts) zero l h before_it = rw (h, statement-stays x t h) refl
at-call x d (t ∷ ts) (suc i) l h before_it =
    past x t ts (call-set x ts i (in_arguments x (get_or ts i d))) (before_it 0 (omega arith)) (at-call x d ts i (omega (arith, l)) h (λ k m. before_it (suc k) (omega (arith, m))))

pub set-at : (x s e a : Tree) (ts us ws : List Tree) (i : ℕ) → Some i ≡ position is_super_statement ts → ListPassed x ts us i → e ≡ get_or us i e → a ≡ in_arguments x e → s ≡ set_statement x → ws ≡ insert (set us i a) (i + 1) s
    → trees ws ≡ with_this_set x (up_to_super x (trees ts))
set-at x s e a ts us ws i h passed at gone is put =
    let found = position-Some is_super_statement ts i e (sym h) in
    let more : i + 1 ≡ suc i = omega arith in
    let was : a ≡ in_arguments x (get_or ts i e) = gone ∙ ap (in_arguments x) (list-left x ts us i e passed at) in
    ap trees (put ∙ ap (insert (set us i a) (i + 1)) is ∙ ap (λ k. insert (set us i a) k (set_statement x)) more
    ∙ ap (λ b. insert (set us i b) (suc i) (set_statement x)) was ∙ ap (λ vs. insert (set vs i (in_arguments x (get_or ts i e))) (suc i) (set_statement x)) passed)
    ∙ at-call x e ts i found.0 found.1 found.2

-- THE STATEMENTS

-- a made name is passed as it is
name-stays : (made : Text → Bool) (x t : Tree) → is_made_name made t ≡ true → after_super x t ≡ t
name-stays made x (node Identifier l done) h = refl
name-stays made x _ h = absurd (cc h)

kept-if : (b : Bool) (y z : Text) → (if b then Some y else None) ≡ Some z → b ≡ true
kept-if true y z h = refl
kept-if false y z h = absurd (cc h)

first-passed : (made : Text → Bool) (x d : Tree) (y : Text) (ts : Trees) → this_name made d ≡ Some y → with_this_set x (up_to_super x (declaration_without d before ts)) ≡ without_value d before with_this_set x (up_to_super x ts)
first-passed made x (node VariableDeclaration m (many (node VariableDeclarator k (one t then (one e then done)) before empty) then done)) y ts h =
    let all = kept-if (is_var m.texts && is_made_name made t && is_this e) (first_text (label_of t).texts) y h in
    let named = and_parts (is_var m.texts) (is_made_name made t) (and_parts (is_var m.texts && is_made_name made t) (is_this e) all).0 in
    rw (name-stays made x t named.1) refl
first-passed made x _ y ts h = absurd (cc h)

record Kept (y : Text) (ts : Trees) (o : Option Text) : Type 0 where
  alone : names_among y ts ≡ false
  name : o ≡ Some y

kept-unless : (b : Bool) (y z : Text) (ts : Trees) → names_among z ts ≡ b → (if b then None else Some z) ≡ Some y → Kept y ts (Some z)
kept-unless true y z ts is h = absurd (cc h)
kept-unless false y z ts is h =
    let same : z ≡ y = cc in
    record { alone = subst (λ v. names_among v ts ≡ false) same is; name = h }

kept-name : (o : Option Text) (y : Text) (ts : Trees) → unless_named o ts ≡ Some y → Kept y ts o
kept-name None y ts h = absurd (cc h)
kept-name (Some z) y ts h = kept-unless (names_among z ts) y z ts refl h

set-kept : (made : Text → Bool) (y : Text) (d : Tree) (ts : List Tree) → Kept y (trees ts) (this_name made d)
    → with_this_set (name_with 0 y) (up_to_super (name_with 0 y) (declaration_without d before trees ts)) ≡ set_behind (this_name made d) d (trees ts)
set-kept made y d ts h = first-passed made (name_with 0 y) d y (trees ts) h.name ∙ rw (h.name, h.alone) refl

pub set-first : (made : Text → Bool) (ts : List Tree) (d e : Tree) (y : Text) → name_to_set made (trees ts) ≡ Some y → d ≡ slice_index_or ts 0 d → e ≡ declaration_without d
    → with_this_set (name_with 0 y) (up_to_super (name_with 0 y) (trees (slice_set ts 0 e))) ≡ set_statements made (trees ts)
set-first made [] d e y h at is = absurd (cc h)
set-first made (t ∷ ts) d e y h at is =
    ap (λ u. with_this_set (name_with 0 y) (up_to_super (name_with 0 y) (u before trees ts))) (is ∙ ap declaration_without at) ∙ set-kept made y t ts (kept-name (this_name made t) y (trees ts) h)

-- THE FIELDS OF A BODY

pub other-fields : (made : Text → Bool) (fs : List NodeField) → (length fs ≡ 2 → ⊥) → plain_fields fs ≡ set_in_body made (plain_fields fs)
other-fields made [] h = refl
other-fields made (f ∷ []) h = refl
other-fields made (f ∷ g ∷ []) h = absurd (h refl)
other-fields made (f ∷ Statements ts ∷ i ∷ fs) h = refl
other-fields made (f ∷ One t ∷ i ∷ fs) h = refl
other-fields made (f ∷ Many ts ∷ i ∷ fs) h = refl
other-fields made (f ∷ Missing ∷ i ∷ fs) h = refl

pub set-second : (made : Text → Bool) (fs : List NodeField) (f : NodeField) (old new : Vec Tree Global) → length fs ≡ 2 → f ≡ slice_index_or fs 1 f → f ≡ Statements old → trees new.items ≡ set_statements made (trees old.items) → plain_fields (slice_set fs 1 (Statements new)) ≡ set_in_body made (plain_fields fs)
set-second made [] f old new two at is h = absurd (omega (arith, two))
set-second made (g ∷ []) f old new two at is h = absurd (omega (arith, two))
set-second made (g ∷ i ∷ j ∷ fs) f old new two at is h = absurd (omega (arith, two))
set-second made (g ∷ i ∷ []) f old new two at is h =
    ap (λ us. plain_field g then (statements us then done)) h ∙ ap (λ y. set_in_body made (plain_field g then (plain_field y then done))) (sym is ∙ at)
