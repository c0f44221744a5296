-- Module requests and exported names of a statement are the same after a change that they do not see.
use Rattle.std.proofs.Common.{◌≡◌, ℕ, zero, suc, refl, sym, ◌∙◌, List, [], ◌++◌}
use Rattle.std.specs.Prelude.{Bool, true, false, map}
use Rattle.std.proofs.lemmas.List.{map-append}
use Rattle.es_tree.specs.BoundNames.{bound_identifiers, bound_in_field, bound_in_fields, bound_in_first, bound_in_second, bound_in_trees}
use Rattle.es_tree.specs.Names.{first_text}
use Rattle.es_tree.specs.Tree.{Tree, node, Label, Fields, Field, missing, one, many, statements, Trees, label_of, kind_of}
use Rattle.es_tree.specs.Words.{Text}
use Rattle.es_tree.specs.declared.ast_type.AstType.{AstType}
use Rattle.es_tree.specs.declared.ast_type.AstType.TheVariants.{ArrayPattern, AssignmentPattern, ClassDeclaration, ExportAllDeclaration, ExportDefaultDeclaration, ExportNamedDeclaration, ExportSpecifier, FunctionDeclaration, Identifier, ImportDeclaration, ObjectPattern, PatternProperty, RestElement, StringLiteral, VariableDeclaration, VariableDeclarator}
use Rattle.es_module_names.specs.Modules.{bound_texts, declarator_texts, declared_texts, exported, name_text, request, specifier_text, star_request}
use Rattle.es_module_names.proofs.Held.{Held, HeldAll, HeldBy, HeldIn, Reads, held-at, is_quiet, is_unread}
use Rattle.es_module_names.proofs.Held.Held.{stays, quiet, inside}
use Rattle.es_module_names.proofs.Held.HeldIn.{ends, more}
use Rattle.es_module_names.proofs.Held.HeldBy.{same, unseen, child_held, children_held}
use Rattle.es_module_names.proofs.Held.HeldAll.{none, some}

-- NAMES

pub name-reads : Reads name_text
name-reads = record { nothing = nothing; within = within }
  where
    nothing : (t : Tree) → is_quiet (kind_of t) ≡ true → name_text t ≡ []
    nothing (node Identifier l fs) e = absurd (cc e)
    nothing (node StringLiteral l fs) e = absurd (cc e)
    nothing (node _ l fs) e = refl

    within : (k : AstType) (l : Label) (fs gs : Fields) → HeldIn (is_unread k) fs gs → name_text (node k l gs) ≡ name_text (node k l fs)
    within Identifier l fs gs c = refl
    within StringLiteral l fs gs c = refl
    within _ l fs gs c = refl

-- PATTERNS

abbrev pub texts_of : List Tree → List Text
texts_of ts = map (λ i. first_text (label_of i).texts) ts

pub both-texts : (ts us vs ws : List Tree) → texts_of vs ≡ texts_of ts → texts_of ws ≡ texts_of us → texts_of (vs ++ ws) ≡ texts_of (ts ++ us)
both-texts ts us vs ws e d = map-append (λ i. first_text (label_of i).texts) vs ws ∙ (λ i. e i ++ d i) ∙ sym (map-append (λ i. first_text (label_of i).texts) ts us)

bound-nothing : (t : Tree) → is_quiet (kind_of t) ≡ true → bound_texts t ≡ []
bound-nothing (node Identifier l fs) e = absurd (cc e)
bound-nothing (node ObjectPattern l fs) e = absurd (cc e)
bound-nothing (node PatternProperty l fs) e = absurd (cc e)
bound-nothing (node ArrayPattern l fs) e = absurd (cc e)
bound-nothing (node AssignmentPattern l fs) e = absurd (cc e)
bound-nothing (node RestElement l fs) e = absurd (cc e)
bound-nothing (node _ l fs) e = refl

mutual
  bound-held : (t u : Tree) → Held t u → texts_of (bound_identifiers u) ≡ texts_of (bound_identifiers t)
  bound-held t u stays = refl
  bound-held t u (quiet e d) = bound-nothing u d ∙ sym (bound-nothing t e)
  bound-held t u (inside {k = Identifier} c) = refl
  bound-held t u (inside {k = ObjectPattern} {fs = fs} {gs = gs} c) = first-held (is_unread ObjectPattern) fs gs refl c
  bound-held t u (inside {k = PatternProperty} {fs = fs} {gs = gs} c) = second-held (is_unread PatternProperty) fs gs refl c
  bound-held t u (inside {k = AssignmentPattern} {fs = fs} {gs = gs} c) = first-held (is_unread AssignmentPattern) fs gs refl c
  bound-held t u (inside {k = RestElement} {fs = fs} {gs = gs} c) = first-held (is_unread RestElement) fs gs refl c
  bound-held t u (inside {k = ArrayPattern} {fs = fs} {gs = gs} c) = fields-held (is_unread ArrayPattern) fs gs (λ i. refl) c
  bound-held t u (inside {k = _} c) = refl

  first-held : (unread : ℕ → Bool) (fs gs : Fields) → unread zero ≡ false → HeldIn unread fs gs → texts_of (bound_in_first gs) ≡ texts_of (bound_in_first fs)
  first-held unread fs gs e ends = refl
  first-held unread fs gs e (more {f = f} {g = g} c cs) = field-held (unread zero) f g e c

  second-held : (unread : ℕ → Bool) (fs gs : Fields) → unread (suc zero) ≡ false → HeldIn unread fs gs → texts_of (bound_in_second gs) ≡ texts_of (bound_in_second fs)
  second-held unread fs gs e ends = refl
  second-held unread fs gs e (more {fs = fs'} {gs = gs'} c cs) = first-held (λ i. unread (suc i)) fs' gs' e cs

  fields-held : (unread : ℕ → Bool) (fs gs : Fields) → ((i : ℕ) → unread i ≡ false) → HeldIn unread fs gs → texts_of (bound_in_fields gs) ≡ texts_of (bound_in_fields fs)
  fields-held unread fs gs e ends = refl
  fields-held unread fs gs e (more {f = f} {g = g} {fs = fs'} {gs = gs'} c cs) = both-texts (bound_in_field f) (bound_in_fields fs') (bound_in_field g) (bound_in_fields gs') (field-held (unread zero) f g (e zero) c) (fields-held (λ i. unread (suc i)) fs' gs' (λ i. e (suc i)) cs)

  field-held : (b : Bool) (f g : Field) → b ≡ false → HeldBy b f g → texts_of (bound_in_field g) ≡ texts_of (bound_in_field f)
  field-held b f g e same = refl
  field-held b f g e (unseen d) = absurd (cc (e, d))
  field-held b f g e (child_held {t = t} {u = u} c) = bound-held t u c
  field-held b f g e (children_held {ts = ts} {us = us} c) = trees-held ts us c

  trees-held : (ts us : Trees) → HeldAll ts us → texts_of (bound_in_trees us) ≡ texts_of (bound_in_trees ts)
  trees-held ts us none = refl
  trees-held ts us (some {t = t} {u = u} {ts = ts'} {us = us'} c cs) = both-texts (bound_identifiers t) (bound_in_trees ts') (bound_identifiers u) (bound_in_trees us') (bound-held t u c) (trees-held ts' us' cs)

bound-reads : Reads bound_texts
bound-reads = record { nothing = bound-nothing; within = λ k l fs gs c. bound-held (node k l fs) (node k l gs) (inside c) }

-- DECLARATIONS

declarator-reads : Reads declarator_texts
declarator-reads = record { nothing = nothing; within = within }
  where
    nothing : (t : Tree) → is_quiet (kind_of t) ≡ true → declarator_texts t ≡ []
    nothing (node VariableDeclarator l fs) e = absurd (cc e)
    nothing (node _ l fs) e = refl

    within : (k : AstType) (l : Label) (fs gs : Fields) → HeldIn (is_unread k) fs gs → declarator_texts (node k l gs) ≡ declarator_texts (node k l fs)
    within VariableDeclarator l fs gs c = held-at bound_texts bound-reads 0 (is_unread VariableDeclarator) fs gs (λ i. refl) c
    within _ l fs gs c = refl

declared-reads : Reads declared_texts
declared-reads = record { nothing = nothing; within = within }
  where
    nothing : (t : Tree) → is_quiet (kind_of t) ≡ true → declared_texts t ≡ []
    nothing (node VariableDeclaration l fs) e = absurd (cc e)
    nothing (node FunctionDeclaration l fs) e = absurd (cc e)
    nothing (node ClassDeclaration l fs) e = absurd (cc e)
    nothing (node _ l fs) e = refl

    within : (k : AstType) (l : Label) (fs gs : Fields) → HeldIn (is_unread k) fs gs → declared_texts (node k l gs) ≡ declared_texts (node k l fs)
    within VariableDeclaration l fs gs c = held-at declarator_texts declarator-reads 0 (is_unread VariableDeclaration) fs gs (λ i. refl) c
    within FunctionDeclaration l fs gs c = held-at name_text name-reads 0 (is_unread FunctionDeclaration) fs gs (λ i. refl) c
    within ClassDeclaration l fs gs c = held-at name_text name-reads 0 (is_unread ClassDeclaration) fs gs (λ i. refl) c
    within _ l fs gs c = refl

specifier-reads : Reads specifier_text
specifier-reads = record { nothing = nothing; within = within }
  where
    nothing : (t : Tree) → is_quiet (kind_of t) ≡ true → specifier_text t ≡ []
    nothing (node ExportSpecifier l fs) e = absurd (cc e)
    nothing (node _ l fs) e = refl

    within : (k : AstType) (l : Label) (fs gs : Fields) → HeldIn (is_unread k) fs gs → specifier_text (node k l gs) ≡ specifier_text (node k l fs)
    within ExportSpecifier l fs gs c = held-at name_text name-reads 1 (is_unread ExportSpecifier) fs gs (λ i. refl) c
    within _ l fs gs c = refl

-- STATEMENTS

pub request-reads : Reads request
request-reads = record { nothing = nothing; within = within }
  where
    nothing : (t : Tree) → is_quiet (kind_of t) ≡ true → request t ≡ []
    nothing (node ImportDeclaration l fs) e = absurd (cc e)
    nothing (node ExportAllDeclaration l fs) e = absurd (cc e)
    nothing (node ExportNamedDeclaration l fs) e = absurd (cc e)
    nothing (node _ l fs) e = refl

    within : (k : AstType) (l : Label) (fs gs : Fields) → HeldIn (is_unread k) fs gs → request (node k l gs) ≡ request (node k l fs)
    within ImportDeclaration l fs gs c = held-at name_text name-reads 1 (is_unread ImportDeclaration) fs gs (λ i. refl) c
    within ExportAllDeclaration l fs gs c = held-at name_text name-reads 1 (is_unread ExportAllDeclaration) fs gs (λ i. refl) c
    within ExportNamedDeclaration l fs gs c = held-at name_text name-reads 2 (is_unread ExportNamedDeclaration) fs gs (λ i. refl) c
    within _ l fs gs c = refl

pub exported-reads : Reads exported
exported-reads = record { nothing = nothing; within = within }
  where
    nothing : (t : Tree) → is_quiet (kind_of t) ≡ true → exported t ≡ []
    nothing (node ExportDefaultDeclaration l fs) e = absurd (cc e)
    nothing (node ExportAllDeclaration l fs) e = absurd (cc e)
    nothing (node ExportNamedDeclaration l fs) e = absurd (cc e)
    nothing (node _ l fs) e = refl

    within : (k : AstType) (l : Label) (fs gs : Fields) → HeldIn (is_unread k) fs gs → exported (node k l gs) ≡ exported (node k l fs)
    within ExportAllDeclaration l fs gs c = held-at name_text name-reads 0 (is_unread ExportAllDeclaration) fs gs (λ i. refl) c
    within ExportNamedDeclaration l fs gs c = λ i. held-at declared_texts declared-reads 0 (is_unread ExportNamedDeclaration) fs gs (λ j. refl) c i ++ held-at specifier_text specifier-reads 1 (is_unread ExportNamedDeclaration) fs gs (λ j. refl) c i
    within _ l fs gs c = refl

-- an export of all names has no name of its own afterwards where it had none
star-fields : (l : Label) (unread : ℕ → Bool) (fs gs : Fields) → ((i : ℕ) → unread i ≡ false) → HeldIn unread fs gs → star_request (node ExportAllDeclaration l gs) ≡ star_request (node ExportAllDeclaration l fs)
star-fields l unread fs gs e ends = refl
star-fields l unread fs gs e (more {f = missing} {fs = fs'} {gs = gs'} same cs) = held-at name_text name-reads 0 (λ i. unread (suc i)) fs' gs' (λ i. e (suc i)) cs
star-fields l unread fs gs e (more {f = one t} same cs) = refl
star-fields l unread fs gs e (more {f = many ts} same cs) = refl
star-fields l unread fs gs e (more {f = statements ts} same cs) = refl
star-fields l unread fs gs e (more (unseen d) cs) = absurd (let no : false ≡ true = sym (e zero) ∙ d in cc no)
star-fields l unread fs gs e (more (child_held c) cs) = refl
star-fields l unread fs gs e (more (children_held c) cs) = refl

pub star-reads : Reads star_request
star-reads = record { nothing = nothing; within = within }
  where
    nothing : (t : Tree) → is_quiet (kind_of t) ≡ true → star_request t ≡ []
    nothing (node ExportAllDeclaration l fs) e = absurd (cc e)
    nothing (node _ l fs) e = refl

    within : (k : AstType) (l : Label) (fs gs : Fields) → HeldIn (is_unread k) fs gs → star_request (node k l gs) ≡ star_request (node k l fs)
    within ExportAllDeclaration l fs gs c = star-fields l (is_unread ExportAllDeclaration) fs gs (λ i. refl) c
    within _ l fs gs c = refl
