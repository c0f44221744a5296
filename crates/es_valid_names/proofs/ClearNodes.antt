-- A node whose fields took a step keeps the rules of declared names by itself: what the rules ask of its fields is the same.
use Rattle.std.proofs.Common.{◌≡◌, ℕ, zero, suc, refl, sym, ap, subst, ◌∙◌, List, [], ◌∷◌, ◌++◌}
use Rattle.std.specs.Prelude.{Bool, true, false, not, ◌&&◌, ◌||◌, is_some, if◌then◌else◌, bytes_eq, codes}
use Rattle.es_tree.specs.Ancestors.{Ancestor, ancestor}
use Rattle.es_tree.specs.Children.{child_at, only_child}
use Rattle.es_tree.specs.CoreStaticRules.{is_name}
use Rattle.es_tree.specs.DeclaredNames.{Name, declared}
use Rattle.es_tree.specs.Names.{first_text, flag_at, third_stands}
use Rattle.es_tree.specs.StaticRules.{any_has_node, has_no_name, has_node, is_accessor_word, is_bad_method, is_constructor_key, is_crowded_export}
use Rattle.es_tree.specs.Tree.{node, Label, Fields, done, ◌then◌, Field, missing, one, many, statements}
use Rattle.es_tree.specs.Words.{Text}
use Rattle.es_tree.specs.declared.ast_type.AstType.{AstType}
use Rattle.es_tree.specs.declared.ast_type.AstType.TheVariants.{ClassDeclaration, ExportNamedDeclaration, FunctionDeclaration, Identifier, MethodDefinition}
use Rattle.es_valid_names.proofs.Claims.{Around, Distinct, OwnClear, Stand, claims_by, claims_in, face, is_default, is_owned, is_wrong, name_or_none, push, specified, stand_in}
use Rattle.es_valid_names.proofs.Grown.{Grown, same_list, still-apart}

-- SHAPES OF FIELDS: whether there is one node, and whether there are some

pub record SameShape (f g : Field) : Type 0 where
  pub single : is_some (only_child g) ≡ is_some (only_child f)
  pub some : has_node g ≡ has_node f

pub same-shape : (f : Field) → SameShape f f
same-shape f = record { single = refl; some = refl }

abbrev pub SameShapes : Fields → Fields → Type 0
SameShapes done done = Unit {0}
SameShapes (f then fs) (g then gs) = SameShape f g × SameShapes fs gs
SameShapes _ _ = ⊥

pub same-shapes : (fs : Fields) → SameShapes fs fs
same-shapes done = tt
same-shapes (f then fs) = (same-shape f, same-shapes fs)

single-third : (a b f : Field) (fs : Fields) → third_stands (a then b then f then fs) ≡ is_some (only_child f)
single-third a b missing fs = refl
single-third a b (one t) fs = refl
single-third a b (many ts) fs = refl
single-third a b (statements ts) fs = refl

third-same : (fs gs : Fields) → SameShapes fs gs → third_stands gs ≡ third_stands fs
third-same done done h = refl
third-same (f then done) (g then done) h = refl
third-same (f then f2 then done) (g then g2 then done) h = refl
third-same (f then f2 then f3 then fs) (g then g2 then g3 then gs) h = single-third g g2 g3 gs ∙ h.1.1.0.single ∙ sym (single-third f f2 f3 fs)
third-same done (g then gs) h = absurd h
third-same (f then fs) done h = absurd h
third-same (f then done) (g then g2 then gs) h = absurd h.1
third-same (f then f2 then fs) (g then done) h = absurd h.1
third-same (f then f2 then done) (g then g2 then g3 then gs) h = absurd h.1.1
third-same (f then f2 then f3 then fs) (g then g2 then done) h = absurd h.1.1

any-same : (fs gs : Fields) → SameShapes fs gs → any_has_node gs ≡ any_has_node fs
any-same done done h = refl
any-same (f then fs) (g then gs) h = λ i. h.0.some i || any-same fs gs h.1 i
any-same done (g then gs) h = absurd h
any-same (f then fs) done h = absurd h

single-crowded : (f : Field) (fs : Fields) → is_crowded_export (f then fs) ≡ (is_some (only_child f) && any_has_node fs)
single-crowded missing fs = refl
single-crowded (one t) fs = refl
single-crowded (many ts) fs = refl
single-crowded (statements ts) fs = refl

crowded-same : (fs gs : Fields) → SameShapes fs gs → is_crowded_export gs ≡ is_crowded_export fs
crowded-same done done h = refl
crowded-same (f then fs) (g then gs) h = single-crowded g gs ∙ (λ i. h.0.single i && any-same fs gs h.1 i) ∙ sym (single-crowded f fs)
crowded-same done (g then gs) h = absurd h
crowded-same (f then fs) done h = absurd h

no-name-same : (fs gs : Fields) → SameShapes fs gs → has_no_name gs ≡ has_no_name fs
no-name-same done done h = refl
no-name-same (f then fs) (g then gs) h = ap (λ b. not b) h.0.single
no-name-same done (g then gs) h = absurd h
no-name-same (f then fs) done h = absurd h

-- THE RULES OF THE NODE

less-key : (a b c d : Bool) → (d ≡ true → c ≡ true) → (a && b && c) ≡ false → (a && b && d) ≡ false
less-key true true true d f e = absurd (cc e)
less-key true true false true f e = absurd (cc (f refl))
less-key true true false false f e = refl
less-key true false c d f e = refl
less-key false b c d f e = refl

method-less : (l : Label) (fs gs : Fields) → (is_constructor_key (child_at 0 gs) ≡ true → is_constructor_key (child_at 0 fs) ≡ true) → is_bad_method l fs ≡ false → is_bad_method l gs ≡ false
method-less l fs gs f = at (bytes_eq (first_text l.texts) (codes "constructor"))
  where
    at : (b : Bool) → (if b then flag_at 0 l.flags || flag_at 1 l.flags else is_accessor_word (first_text l.texts) && not (flag_at 0 l.flags || flag_at 1 l.flags) && is_constructor_key (child_at 0 fs)) ≡ false → (if b then flag_at 0 l.flags || flag_at 1 l.flags else is_accessor_word (first_text l.texts) && not (flag_at 0 l.flags || flag_at 1 l.flags) && is_constructor_key (child_at 0 gs)) ≡ false
    at true e = e
    at false e = less-key (is_accessor_word (first_text l.texts)) (not (flag_at 0 l.flags || flag_at 1 l.flags)) (is_constructor_key (child_at 0 fs)) (is_constructor_key (child_at 0 gs)) f e

pub wrong-kept : (c : Around) (st : Stand) (k : AstType) (l : Label) (fs gs : Fields) → SameShapes fs gs → (is_constructor_key (child_at 0 gs) ≡ true → is_constructor_key (child_at 0 fs) ≡ true) → is_wrong c st k l fs ≡ false → is_wrong c st k l gs ≡ false
wrong-kept c st MethodDefinition l fs gs h f e = method-less l fs gs f e
wrong-kept c st ExportNamedDeclaration l fs gs h f e = crowded-same fs gs h ∙ e
wrong-kept c st FunctionDeclaration l fs gs h f e = (λ i. no-name-same fs gs h i && not (is_default st)) ∙ e
wrong-kept c st ClassDeclaration l fs gs h f e = (λ i. no-name-same fs gs h i && not (is_default st)) ∙ e
wrong-kept c st _ l fs gs h f e = e

pub stand-kept : (st : Stand) (k : AstType) (fs gs : Fields) (i : ℕ) → SameShapes fs gs → stand_in st k fs i ≡ stand_in st k gs i
stand-kept st ExportNamedDeclaration fs gs zero h = refl
stand-kept st ExportNamedDeclaration fs gs (suc zero) h = ap (λ b. specified b) (sym (third-same fs gs h))
stand-kept st ExportNamedDeclaration fs gs (suc (suc i)) h = refl
stand-kept st _ fs gs i h = refl

-- ITS CLAIMS

pub face-kept : (fs gs : Fields) → is_name (child_at 0 gs) ≡ is_name (child_at 0 fs) → (i : ℕ) → face i fs ≡ face i gs
face-kept fs gs e zero = ap (λ b. name_or_none b) (sym e)
face-kept fs gs e (suc i) = refl

pub face-claims : (up : List Ancestor) (k : AstType) (l : Label) (all all' : Fields) (m i : ℕ) (fs : Fields) → ((j : ℕ) → face j all ≡ face j all') → claims_in is_owned up k l all m i fs ≡ claims_in is_owned up k l all' m i fs
face-claims up k l all all' m i done e = refl
face-claims up k l all all' m i (f then fs) e = λ j. claims_by is_owned (ancestor k l (e i j) i m ∷ up) f ++ face-claims up k l all all' m (suc i) fs e j

pub declared-fields : (up : List Ancestor) (k : AstType) (l : Label) (fs gs : Fields) → declared up (node k l fs) ≡ declared up (node k l gs)
declared-fields up Identifier l fs gs = refl
declared-fields up _ l fs gs = refl

pub push-both : {used used' : Text → Bool} (g : List Name) {gs hs : List (List Name)} → Grown used used' gs hs → Grown used used' (push g gs) (push g hs)
push-both [] h = h
push-both (n ∷ ns) h = same_list (n ∷ ns) h

pub own-kept : (c d : Around) (used used' : Text → Bool) → c.used ≡ used → d.used ≡ used' → ((x : Text) → used x ≡ true → used' x ≡ true) → (b : Bool) {gs hs : List (List Name)} → Grown used used' gs hs → OwnClear c.used b gs → OwnClear d.used b hs
own-kept c d used used' e g more true {gs = gs} {hs = hs} r h = subst (λ (v : Text → Bool). Distinct v [] hs) (sym g) (still-apart used used' more r (subst (λ (v : Text → Bool). Distinct v [] gs) e h))
own-kept c d used used' e g more false r h = tt
