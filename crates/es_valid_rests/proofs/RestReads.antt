-- What other modules see is the same where rules leave nodes of the same kind and label, and exported declarations of the same names.
use Rattle.std.proofs.Common.{◌≡◌, ℕ, zero, suc, refl, sym, ap, subst, List, ◌++◌}
use Rattle.std.specs.Prelude.{Bool, true, false}
use Rattle.es_tree.specs.Ancestors.{Ancestor, stands_in}
use Rattle.es_tree.specs.BoundNames.{bound_identifiers, bound_in_field, bound_in_fields, bound_in_first, bound_in_second, bound_in_trees}
use Rattle.es_tree.specs.HasForm.{has_form, same_type}
use Rattle.es_tree.specs.Tree.{Tree, node, Label, Fields, ◌then◌, Field, missing, one, many, statements, Trees, ◌before◌, kind_of, label_of}
use Rattle.es_tree.specs.Words.{Text}
use Rattle.es_tree.specs.declared.ast_type.AstType.{AstType}
use Rattle.es_tree.specs.declared.ast_type.AstType.TheVariants.{ArrayPattern, ArrowFunctionExpression, AssignmentPattern, BlockStatement, ClassDeclaration, ExportAllDeclaration, ExportNamedDeclaration, ExportSpecifier, FunctionBody, FunctionDeclaration, Identifier, ImportDeclaration, ObjectPattern, PatternProperty, Program, RestElement, StaticBlock, StringLiteral, SwitchCase, VariableDeclaration, VariableDeclarator}
use Rattle.es_tree.specs.declared.table.Sort.{Sort}
use Rattle.es_steps.specs.Open.{Open, OpenField, OpenFields, OpenTrees, finished, finished_field, finished_fields, finished_trees, is_body, opened}
use Rattle.es_steps.specs.Steps.{Ledger, Site, Spot, Step, FieldsStep, FieldStep, TreesStep, site_in}
use Rattle.es_steps.specs.Steps.Spot.{at_beside, at_node}
use Rattle.es_steps.specs.Steps.Step.{acts, inside}
use Rattle.es_steps.specs.Steps.FieldsStep.{in_first, in_later}
use Rattle.es_steps.specs.Steps.FieldStep.{in_child, in_body, in_children, in_list, in_target, in_program, acts_on_body, acts_on_list}
use Rattle.es_steps.specs.Steps.TreesStep.{in_head, in_tail, in_flanked, after_flanked, flanks, acts_on_flanked}
use Rattle.es_steps.proofs.FormOpen.{AreProperFields, AreProperTrees, IsProper, IsProperField}
use Rattle.es_steps.proofs.FormRules.{AtNodes}
use Rattle.es_steps.proofs.Opened.{finished-opened}
use Rattle.es_valid_steps.proofs.FieldForms.{FieldHas, FieldsHave, TreesHave, node-have}
use Rattle.es_valid_steps.proofs.Pending.{is_list_kind}
use Rattle.es_valid_rests.proofs.FacedSteps.{SameBeside}
use Rattle.es_module_names.specs.Modules.{bound_texts, declarator_texts, declared_texts, exported, name_text, request, specifier_text, star_request, texts_among, texts_at, texts_by}
use Rattle.es_module_names.proofs.Readings.{both-texts, texts_of}

-- THE SAME, where it stands below these ancestors

abbrev pub is_exported : List Ancestor → Bool
is_exported up = stands_in ExportNamedDeclaration 0 up

pub record SameRead (up : List Ancestor) (t u : Tree) : Type 0 where
  pub kind : kind_of u ≡ kind_of t
  pub label : label_of u ≡ label_of t
  pub bound : bound_texts u ≡ bound_texts t
  pub declarator : declarator_texts u ≡ declarator_texts t
  pub declared : is_exported up ≡ true → declared_texts u ≡ declared_texts t
  pub specifier : specifier_text u ≡ specifier_text t
  pub request : request u ≡ request t
  pub star : star_request u ≡ star_request t
  pub exported : exported u ≡ exported t

name-fields : (k : AstType) (l : Label) (fs gs : Fields) → name_text (node k l gs) ≡ name_text (node k l fs)
name-fields Identifier l fs gs = refl
name-fields StringLiteral l fs gs = refl
name-fields _ l fs gs = refl

name-same : (t u : Tree) → kind_of u ≡ kind_of t → label_of u ≡ label_of t → name_text u ≡ name_text t
name-same (node k l fs) (node j m gs) e d = subst (λ (a : AstType). name_text (node a m gs) ≡ name_text (node k l fs)) (sym e) (subst (λ (b : Label). name_text (node k b gs) ≡ name_text (node k l fs)) (sym d) (name-fields k l fs gs))

-- FIELDS

record SameField (up : List Ancestor) (f g : Field) : Type 0 where
  name : texts_by name_text g ≡ texts_by name_text f
  bound : texts_by bound_texts g ≡ texts_by bound_texts f
  inner : texts_of (bound_in_field g) ≡ texts_of (bound_in_field f)
  declarator : texts_by declarator_texts g ≡ texts_by declarator_texts f
  declared : is_exported up ≡ true → texts_by declared_texts g ≡ texts_by declared_texts f
  specifier : texts_by specifier_text g ≡ texts_by specifier_text f
  star : (l : Label) (fs : Fields) → star_request (node ExportAllDeclaration l (g then fs)) ≡ star_request (node ExportAllDeclaration l (f then fs))

record SameFields (up : ℕ → List Ancestor) (fs gs : Fields) : Type 0 where
  names : (n : ℕ) → texts_at name_text n gs ≡ texts_at name_text n fs
  bounds : (n : ℕ) → texts_at bound_texts n gs ≡ texts_at bound_texts n fs
  declarators : (n : ℕ) → texts_at declarator_texts n gs ≡ texts_at declarator_texts n fs
  declareds : (n : ℕ) → is_exported (up n) ≡ true → texts_at declared_texts n gs ≡ texts_at declared_texts n fs
  specifiers : (n : ℕ) → texts_at specifier_text n gs ≡ texts_at specifier_text n fs
  first : texts_of (bound_in_first gs) ≡ texts_of (bound_in_first fs)
  second : texts_of (bound_in_second gs) ≡ texts_of (bound_in_second fs)
  all : texts_of (bound_in_fields gs) ≡ texts_of (bound_in_fields fs)
  star : (l : Label) → star_request (node ExportAllDeclaration l gs) ≡ star_request (node ExportAllDeclaration l fs)

-- kinds in which nothing is read: those with a list of statements, and arrows
abbrev is_mute : AstType → Bool
is_mute ArrowFunctionExpression = true
is_mute k = is_list_kind k

first-same : (read : Tree → List Text) (f g : Field) (fs : Fields) → texts_by read g ≡ texts_by read f → (n : ℕ) → texts_at read n (g then fs) ≡ texts_at read n (f then fs)
first-same read f g fs e zero = e
first-same read f g fs e (suc n) = refl

later-same : (read : Tree → List Text) (f : Field) (fs gs : Fields) → ((n : ℕ) → texts_at read n gs ≡ texts_at read n fs) → (n : ℕ) → texts_at read n (f then gs) ≡ texts_at read n (f then fs)
later-same read f fs gs e zero = refl
later-same read f fs gs e (suc n) = e n

in-first-field : (up : ℕ → List Ancestor) (f g : Field) (fs : Fields) → SameField (up zero) f g → SameFields up (f then fs) (g then fs)
in-first-field up f g fs r = record {
  names = first-same name_text f g fs r.name;
  bounds = first-same bound_texts f g fs r.bound;
  declarators = first-same declarator_texts f g fs r.declarator;
  declareds = at;
  specifiers = first-same specifier_text f g fs r.specifier;
  first = r.inner;
  second = refl;
  all = both-texts (bound_in_field f) (bound_in_fields fs) (bound_in_field g) (bound_in_fields fs) r.inner refl;
  star = λ l. r.star l fs;
}
  where
    at : (n : ℕ) → is_exported (up n) ≡ true → texts_at declared_texts n (g then fs) ≡ texts_at declared_texts n (f then fs)
    at zero e = r.declared e
    at (suc n) e = refl

in-later-field : (up : ℕ → List Ancestor) (f : Field) (fs gs : Fields) → SameFields (λ i. up (suc i)) fs gs → SameFields up (f then fs) (f then gs)
in-later-field up f fs gs r = record {
  names = later-same name_text f fs gs r.names;
  bounds = later-same bound_texts f fs gs r.bounds;
  declarators = later-same declarator_texts f fs gs r.declarators;
  declareds = at;
  specifiers = later-same specifier_text f fs gs r.specifiers;
  first = refl;
  second = r.first;
  all = both-texts (bound_in_field f) (bound_in_fields fs) (bound_in_field f) (bound_in_fields gs) refl r.all;
  star = λ l. star-later l f;
}
  where
    at : (n : ℕ) → is_exported (up n) ≡ true → texts_at declared_texts n (f then gs) ≡ texts_at declared_texts n (f then fs)
    at zero e = refl
    at (suc n) e = r.declareds n e

    star-later : (l : Label) (f : Field) → star_request (node ExportAllDeclaration l (f then gs)) ≡ star_request (node ExportAllDeclaration l (f then fs))
    star-later l missing = r.names 0
    star-later l (one t) = refl
    star-later l (many ts) = refl
    star-later l (statements ts) = refl

-- NODES

mute-same : (up : List Ancestor) (k : AstType) (l : Label) (fs gs : Fields) → is_mute k ≡ true → SameRead up (node k l fs) (node k l gs)
mute-same up ArrowFunctionExpression l fs gs e = record { kind = refl; label = refl; bound = refl; declarator = refl; declared = λ d. refl; specifier = refl; request = refl; star = refl; exported = refl }
mute-same up BlockStatement l fs gs e = record { kind = refl; label = refl; bound = refl; declarator = refl; declared = λ d. refl; specifier = refl; request = refl; star = refl; exported = refl }
mute-same up FunctionBody l fs gs e = record { kind = refl; label = refl; bound = refl; declarator = refl; declared = λ d. refl; specifier = refl; request = refl; star = refl; exported = refl }
mute-same up Program l fs gs e = record { kind = refl; label = refl; bound = refl; declarator = refl; declared = λ d. refl; specifier = refl; request = refl; star = refl; exported = refl }
mute-same up StaticBlock l fs gs e = record { kind = refl; label = refl; bound = refl; declarator = refl; declared = λ d. refl; specifier = refl; request = refl; star = refl; exported = refl }
mute-same up SwitchCase l fs gs e = record { kind = refl; label = refl; bound = refl; declarator = refl; declared = λ d. refl; specifier = refl; request = refl; star = refl; exported = refl }
mute-same up _ l fs gs e = absurd (cc e)

abbrev is_export : AstType → Bool
is_export ExportNamedDeclaration = true
is_export _ = false

node-same : (up : List Ancestor) (k : AstType) (l : Label) (at : ℕ → List Ancestor) (fs gs : Fields) → (is_export k ≡ true → is_exported (at 0) ≡ true) → SameFields at fs gs → SameRead up (node k l fs) (node k l gs)
node-same up k l at fs gs out r = record { kind = refl; label = refl; bound = bound k; declarator = declarator k; declared = λ e. declared k; specifier = specifier k; request = requests k; star = stars k; exported = exports k out }
  where
    bound : (k : AstType) → bound_texts (node k l gs) ≡ bound_texts (node k l fs)
    bound Identifier = refl
    bound ObjectPattern = r.first
    bound PatternProperty = r.second
    bound AssignmentPattern = r.first
    bound RestElement = r.first
    bound ArrayPattern = r.all
    bound _ = refl

    declarator : (k : AstType) → declarator_texts (node k l gs) ≡ declarator_texts (node k l fs)
    declarator VariableDeclarator = r.bounds 0
    declarator _ = refl

    declared : (k : AstType) → declared_texts (node k l gs) ≡ declared_texts (node k l fs)
    declared VariableDeclaration = r.declarators 0
    declared FunctionDeclaration = r.names 0
    declared ClassDeclaration = r.names 0
    declared _ = refl

    specifier : (k : AstType) → specifier_text (node k l gs) ≡ specifier_text (node k l fs)
    specifier ExportSpecifier = r.names 1
    specifier _ = refl

    requests : (k : AstType) → request (node k l gs) ≡ request (node k l fs)
    requests ImportDeclaration = r.names 1
    requests ExportAllDeclaration = r.names 1
    requests ExportNamedDeclaration = r.names 2
    requests _ = refl

    stars : (k : AstType) → star_request (node k l gs) ≡ star_request (node k l fs)
    stars ExportAllDeclaration = r.star l
    stars _ = refl

    exports : (k : AstType) → (is_export k ≡ true → is_exported (at 0) ≡ true) → exported (node k l gs) ≡ exported (node k l fs)
    exports ExportAllDeclaration out = r.names 0
    exports ExportNamedDeclaration out = λ i. r.declareds 0 (out refl) i ++ r.specifiers 1 i
    exports _ out = refl

-- LISTS, of which one node has changed

pub data SameTrees (up : List Ancestor) : Trees → Trees → Type 0 where
  here : {t u : Tree} {ts : Trees} → SameRead up t u → SameTrees up (t before ts) (u before ts)
  there : {t : Tree} {ts us : Trees} → SameTrees up ts us → SameTrees up (t before ts) (t before us)

module _ (read : Tree → List Text) (up : List Ancestor) (same : (t u : Tree) → SameRead up t u → read u ≡ read t) where
  pub among-same : (ts us : Trees) → SameTrees up ts us → texts_among read us ≡ texts_among read ts
  among-same ts us (here {t = t} {u = u} {ts = rest} r) = ap (λ xs. xs ++ texts_among read rest) (same t u r)
  among-same ts us (there {t = t} {ts = ts'} {us = us'} r) = ap (λ xs. read t ++ xs) (among-same ts' us' r)

bound-among : (up : List Ancestor) (ts us : Trees) → SameTrees up ts us → texts_of (bound_in_trees us) ≡ texts_of (bound_in_trees ts)
bound-among up ts us (here {t = t} {u = u} {ts = rest} r) = both-texts (bound_identifiers t) (bound_in_trees rest) (bound_identifiers u) (bound_in_trees rest) r.bound refl
bound-among up ts us (there {t = t} {ts = ts'} {us = us'} r) = both-texts (bound_identifiers t) (bound_in_trees ts') (bound_identifiers t) (bound_in_trees us') refl (bound-among up ts' us' r)

declared-among : (up : List Ancestor) (ts us : Trees) → is_exported up ≡ true → SameTrees up ts us → texts_among declared_texts us ≡ texts_among declared_texts ts
declared-among up ts us e r = among-same declared_texts up (λ t u s. s.declared e) ts us r

child-field : (up : List Ancestor) (t u : Tree) → SameRead up t u → SameField up (one t) (one u)
child-field up t u r = record { name = name-same t u r.kind r.label; bound = r.bound; inner = r.bound; declarator = r.declarator; declared = r.declared; specifier = r.specifier; star = λ l fs. refl }

children-field : (up : List Ancestor) (ts us : Trees) → SameTrees up ts us → SameField up (many ts) (many us)
children-field up ts us r = record {
  name = among-same name_text up (λ t u s. name-same t u s.kind s.label) ts us r;
  bound = among-same bound_texts up (λ t u s. s.bound) ts us r;
  inner = bound-among up ts us r;
  declarator = among-same declarator_texts up (λ t u s. s.declarator) ts us r;
  declared = λ e. declared-among up ts us e r;
  specifier = among-same specifier_text up (λ t u s. s.specifier) ts us r;
  star = λ l fs. refl;
}

-- STEPS

pub record ReadLawful (R : Site → Ledger → Spot → Ledger → Spot → Type 0) : Type 0 where
  pub at_nodes : (n : Site) (s s' : Ledger) (x y : Spot) → R n s x s' y → AtNodes x y
  pub leaves : (n : Site) (s s' : Ledger) (t u : Tree) → R n s (at_node t) s' (at_node u) → SameRead n.above t u
  pub beside : (n : Site) (s s' : Ledger) (t u : Tree) → R n s (at_node t) s' (at_node u) → SameBeside s s'
  -- it acts on no program
  pub within : (n : Site) (s s' : Ledger) (t u : Tree) → R n s (at_node t) s' (at_node u) → same_type (kind_of t) Program ≡ false

-- fields in which a node has changed, or of a node in which nothing is read
data Changed (k : AstType) (A : Type 0) : Type 0 where
  is_read : A → Changed k A
  unread : is_mute k ≡ true → Changed k A

changed : {A B : Type 0} (k : AstType) → (A → B) → Changed k A → Changed k B
changed k f (is_read a) = is_read (f a)
changed k f (unread e) = unread e

body-mute : (k : AstType) (i : ℕ) → is_body k i ≡ true → is_mute k ≡ true
body-mute ArrowFunctionExpression i e = refl
body-mute k i e = absurd (cc e)

list-mute : (k : AstType) → is_list_kind k ≡ true → is_mute k ≡ true
list-mute ArrowFunctionExpression e = refl
list-mute _ e = e

exported-first : (n : Site) (k : AstType) (l : Label) (fs : OpenFields) → is_export k ≡ true → is_exported (site_in n k l fs 0).above ≡ true
exported-first n ExportNamedDeclaration l fs e = refl
exported-first n _ l fs e = absurd (cc e)

module _ (R : Site → Ledger → Spot → Ledger → Spot → Type 0) (law : ReadLawful R) where
  mutual
    pub read-after : {n : Site} {s s' : Ledger} {t u : Open} → Step R n s t s' u → (a : Sort) → IsProper t → has_form a (finished t) ≡ true → SameRead n.above (finished t) (finished u)
    read-after (acts {n = n} {s = s} {s' = s'} t u h) a proper f = subst (λ (x : Tree). SameRead n.above x (finished (opened u))) (sym (finished-opened t)) (subst (λ (y : Tree). SameRead n.above t y) (sym (finished-opened u)) (law.leaves n s s' t u h))
    read-after (inside {n = n} {k = k} {l = l} {fs = fs} {gs = gs} h) a proper f = at (read-in h k (is_body k) (body-mute k) proper (node-have n a k l fs f))
      where
        at : Changed k (SameFields (λ i. (site_in n k l fs i).above) (finished_fields fs) (finished_fields gs)) → SameRead n.above (node k l (finished_fields fs)) (node k l (finished_fields gs))
        at (is_read r) = node-same n.above k l (λ i. (site_in n k l fs i).above) (finished_fields fs) (finished_fields gs) (exported-first n k l fs) r
        at (unread e) = mute-same n.above k l (finished_fields fs) (finished_fields gs) e

    read-in : {c : ℕ → Site} {s s' : Ledger} {fs gs : OpenFields} → FieldsStep R c s fs s' gs → (k : AstType) (bodies : ℕ → Bool) → ((i : ℕ) → bodies i ≡ true → is_mute k ≡ true) → AreProperFields bodies fs → FieldsHave k c bodies (finished_fields fs) → Changed k (SameFields (λ i. (c i).above) (finished_fields fs) (finished_fields gs))
    read-in (in_first {c = c} {f = x} {g = y} {fs = fs} h) k bodies mute proper has = changed k (λ r. in-first-field (λ i. (c i).above) (finished_field x) (finished_field y) (finished_fields fs) r) (read-by h k (bodies zero) (mute zero) proper.0 has.0)
    read-in (in_later {c = c} {f = x} {fs = fs} {gs = gs} h) k bodies mute proper has = changed k (λ r. in-later-field (λ i. (c i).above) (finished_field x) (finished_fields fs) (finished_fields gs) r) (read-in h k (λ i. bodies (suc i)) (λ i. mute (suc i)) proper.1 has.1)

    read-by : {n : Site} {s s' : Ledger} {f g : OpenField} → FieldStep R n s f s' g → (k : AstType) (b : Bool) → (b ≡ true → is_mute k ≡ true) → IsProperField b f → FieldHas k n b (finished_field f) → Changed k (SameField n.above (finished_field f) (finished_field g))
    read-by (in_child {n = n} {t = t} {u = u} h) k b mute proper has = is_read (child-field n.above (finished t) (finished u) (read-after h has.sort proper has.formed))
    read-by (in_children {n = n} {ts = ts} {us = us} h) k b mute proper has = is_read (children-field n.above (finished_trees ts) (finished_trees us) (read-all h proper has.trees))
    read-by (in_body e y y' h) k b mute proper has = unread (mute proper.0)
    read-by (in_list e e' h) k b mute proper has = unread (list-mute k has.listed)
    read-by (in_target e h) k b mute proper has = unread (list-mute k has.listed)
    read-by (in_program e h) k b mute proper has = unread (list-mute k has.listed)
    read-by (acts_on_list ts us h) k b mute proper has = unread (list-mute k has.listed)
    read-by (acts_on_body t u h) k b mute proper has = unread (mute proper.0)

    pub read-all : {n : Site} {s s' : Ledger} {ts us : OpenTrees} → TreesStep R n s ts s' us → AreProperTrees ts → TreesHave (finished_trees ts) → SameTrees n.above (finished_trees ts) (finished_trees us)
    read-all (in_head h) proper has = here (read-after h has.0.sort proper.0 has.0.formed)
    read-all (in_tail h) proper has = there (read-all h proper.1 has.1)
    read-all (in_flanked h) proper has = absurd proper
    read-all (after_flanked h) proper has = absurd proper
    read-all (flanks {n = n} {s = s} {s' = s'} {bs = bs} {cs = cs} t u h) proper has = absurd (law.at_nodes n s s' (at_node t) (at_beside bs u cs) h)
    read-all (acts_on_flanked t us h) proper has = absurd proper
