-- The rows of one declarator, as it is seen.
use Rattle.std.proofs.Common.{refl, subst, sym, ◌++◌, ◌∙◌, ◌∷◌, ◌≡◌, [], List, Option, Some, codes, ℕ}
use Rattle.std.proofs.lemmas.Bool.{and_from, and_parts}
use Rattle.std.specs.Prelude.{Bool, bytes_eq, false, if◌then◌else◌, is_some, not, true, ◌&&◌}
use Rattle.es_tree.specs.Attributes.{flag_entries}
use Rattle.es_tree.specs.Bare.{bare_label}
use Rattle.es_tree.specs.Fresh.{IsFreshName, node_base}
use Rattle.es_tree.specs.HasForm.{flag_of, has_form, is_computed, sort_at, trees_form}
use Rattle.es_tree.specs.Names.{first_text, flag_at, has_computed}
use Rattle.es_tree.specs.Tree.{Label, Tree, Trees, done, empty, kind_of, node, one, ◌before◌, ◌then◌}
use Rattle.es_tree.specs.Words.{Text}
use Rattle.es_tree.specs.declared.ast_type.AstType.TheVariants.{Identifier, ObjectPattern, PatternProperty}
use Rattle.es_tree.specs.declared.table.FieldName.TheVariants.{Computed as f-Computed}
use Rattle.es_tree.specs.declared.table.Sort.TheVariants.{Expression as s-Expression, Pattern as s-Pattern, PatternMember as s-PatternMember, PropertyKey as s-PropertyKey}
use Rattle.es_tree.proofs.NodeForm.{node_form}
use Rattle.es_semantic.specs.RolesOf.{reads}
use Rattle.es_semantic.specs.declared.place.Binding.TheVariants.{Constant, Let, Variable}
use Rattle.es_resolution.specs.Declarations.{Bound, sought}
use Rattle.es_resolution.specs.Resolved.{bound_by}
use Rattle.es_resolution.specs.Seen.{seen, seen_among}
use Rattle.es_resolution.proofs.Basics.{bytes_eq-self}
use Rattle.es_steps.specs.Duplication.{IsNext}
use Rattle.es_steps.specs.Nodes.{declarator_with, identifier, joined_trees}
use Rattle.es_steps.specs.ObjectRest.{Declares, declares_as, kind_of_declaration, pattern_node}
use Rattle.es_steps.specs.ObjectRest.Declares.{by_var, lexically}
use Rattle.es_steps.specs.Open.{Additions, Pending}
use Rattle.es_steps.specs.Patterns.{IsSilent}
use Rattle.es_steps.specs.Rules.{next_name, with_made}
use Rattle.es_steps.specs.Steps.{Site, Whole, ledger}
use Rattle.es_steps.specs.Steps.Spot.{at_node}
use Rattle.es_steps.proofs.BridgeDeclarations.{bound-right}
use Rattle.es_steps.proofs.FormLists.{first-formed}
use Rattle.es_changes.proofs.Expressions.{law_expression_proof}
use Rattle.es_valid_rests.specs.RestRules.{all_declare, is_binding_kind}
use Rattle.es_rest_rows.specs.RestRows.{NamesKeys, PutsName, RestWalkRow, declaring, is_exported, is_kept, parted, property_of, taken, with_rest}
use Rattle.es_rest_rows.specs.RestRows.NamesKeys.{knows as k-knows, no_properties as k-no_properties, reads_one as k-reads_one}
use Rattle.es_rest_rows.specs.RestRows.RowsWhere.{nested, stores, takes}
use Rattle.es_tree.specs.PropertyKeys.{is_literal_key}
use Rattle.es_rest_shapes.specs.RestShapes.{are_plain, bears_among, is_name, is_plain_pattern, reads_key}
use Rattle.lower_temporaries.proofs.SeenLaws.{base-seen}
use Rattle.lower_object_rest.specs.Groups.{NamesRead}
use Rattle.lower_object_rest.specs.Groups.NamesRead.{knows, no_properties, reads_one}
use Rattle.lower_object_rest.specs.Rule.{all_declare_joined}
use Rattle.lower_object_rest.proofs.SeenShapes.{reads-seen}

-- NAMES

pub record IsNamed (t : Tree) : Type 0 where
  pub label : Label
  pub is : t ≡ node Identifier label done

pub name-node : (t : Tree) → is_name t ≡ true → IsNamed t
name-node (node Identifier l done) h = record { label = l; is = refl }
name-node (node Identifier l (f then fs)) h = absurd (cc h)
name-node (node _ l fs) h = absurd (cc h)

-- PATTERNS

plain-binding : (p : Tree) → is_plain_pattern p ≡ true → is_binding_kind (kind_of p) ≡ true
plain-binding (node ObjectPattern l fs) h = refl
plain-binding (node _ l fs) h = absurd (cc h)

-- DECLARATIONS by each word

declares-any : (m : Label) → Declares (kind_of_declaration m)
declares-any m = at (bytes_eq (first_text m.texts) (codes "var")) (bytes_eq (first_text m.texts) (codes "let"))
  where
    at : (a b : Bool) → Declares (if a then Variable else if b then Let else Constant)
    at true b = by_var refl
    at false true = lexically refl
    at false false = lexically refl

-- ROWS

-- the last of the made names is one
pub last-made : (bs : List Bound) (b : Bound) → bound_by (bs ++ b ∷ []) b.name ≡ true
last-made bs b = bound-right bs (b ∷ []) b.name (λ i. is_some (if bytes_eq-self b.name i then Some b.symbol else sought [] b.name))

-- a row at a declarator, among others of whatever declaration that isn't exported
abbrev pub RowAt : Whole → Tree → Whole → Trees → Type 0
RowAt w d v es = (n : Site) (m : Label) (cs fs : Trees) → is_exported n ≡ false → all_declare cs ≡ true → all_declare fs ≡ true → (q : Pending) (x : Option Bound) (y : Additions) →
    RestWalkRow n (ledger w q x y) (at_node (declaring m (joined_trees cs (d before fs)))) (ledger v q x y) (at_node (declaring m (joined_trees cs (joined_trees es fs))))

-- a name that is the next one
next-is : (w : Whole) (base : Text) (b : Bound) → IsNext w base b → next_name w b.name ≡ b
next-is w base b next = λ i. record { name = b.name; symbol = sym next.symbol i }

pub takes-row : (w v : Whole) (l lp lr ls : Label) (ps : Trees) (t : Tree) (xs : List Bound) → are_plain ps ≡ true → is_name t ≡ true → is_kept w (with_rest lp ps lr t) (node Identifier ls done) ≡ true → NamesKeys w ps xs v → w.in_use (codes "babelHelpers") ≡ true →
    RowAt w (declares_as l (with_rest lp ps lr t) (node Identifier ls done)) v (taken lp (node Identifier ls done) xs ps t)
takes-row w v l lp lr ls ps t xs plain name kept named used n m cs fs inside earlier later q x y =
    takes m l lp lr ls cs ps fs t xs inside (declares-any m) plain name (all_declare_joined cs (declares_as l (with_rest lp ps lr t) (node Identifier ls done) before fs) earlier later) kept named tt used

pub stores-row : (w : Whole) (l : Label) (p e : Tree) (b : Bound) → is_plain_pattern p ≡ true → is_kept w p e ≡ false → IsSilent reads e → IsNext w (node_base e) b →
    RowAt w (declares_as l p e) (with_made (b ∷ []) w) (declarator_with (identifier b) e before declares_as l p (identifier b) before empty)
stores-row w l p e b plain kept silent next n m cs fs inside earlier later q x y =
    let row = stores m l cs fs p e b.name inside (declares-any m) plain (all_declare_joined cs (declares_as l p e before fs) earlier (and_from (is_binding_kind (kind_of p)) (all_declare fs) (plain-binding p plain) later)) kept silent next.fresh in
    let from = at_node (declaring m (joined_trees cs (declares_as l p e before fs))) in
    subst (λ (c : Bound). RestWalkRow n (ledger w q x y) from (ledger (with_made (c ∷ []) w) q x y) (at_node (declaring m (joined_trees cs (declarator_with (identifier c) e before declares_as l p (identifier c) before fs))))) (next-is w (node_base e) b next) row

pub nested-row : (w : Whole) (l lp lq ls : Label) (ps rs : Trees) (k p v u : Tree) (b : Bound) → are_plain (joined_trees ps (property_of lq k v before rs)) ≡ true → bears_among ps ≡ false → is_plain_pattern p ≡ true → PutsName (identifier b) p v u →
    is_kept w (pattern_node lp (joined_trees ps (property_of lq k v before rs))) (node Identifier ls done) ≡ true → IsNext w (codes "ref") b →
    RowAt w (declares_as l (pattern_node lp (joined_trees ps (property_of lq k v before rs))) (node Identifier ls done)) (with_made (b ∷ []) w) (parted lp (node Identifier ls done) ps (property_of lq k u) p b rs)
nested-row w l lp lq ls ps rs k p v u b plain none bears put kept next n m cs fs inside earlier later q x y =
    let it : Tree = node Identifier ls done in
    let d = declares_as l (pattern_node lp (joined_trees ps (property_of lq k v before rs))) it in
    let named = next-is w (codes "ref") b next in
    let row = nested m l lp lq ls cs ps rs fs k p v u b.name inside (declares-any m) plain none bears (subst (λ (c : Bound). PutsName (identifier c) p v u) (sym named) put) (all_declare_joined cs (d before fs) earlier later) kept next.fresh in
    subst (λ (c : Bound). RestWalkRow n (ledger w q x y) (at_node (declaring m (joined_trees cs (d before fs)))) (ledger (with_made (c ∷ []) w) q x y) (at_node (declaring m (joined_trees cs (joined_trees (parted lp it ps (property_of lq k u) p c rs) fs))))) named row

-- NAMES OF KEYS, where the properties have form: a key that is read is an expression

computed-key : (bs : List Bool) → flag_at 1 bs ≡ true → flag_of f-Computed (flag_entries PatternProperty) bs ≡ true
computed-key [] e = absurd (cc e)
computed-key (b ∷ []) e = absurd (cc e)
computed-key (b ∷ c ∷ bs) e = e

key-silent : (l : Label) (k v : Tree) → reads_key (node PatternProperty l (one k then one v then done)) ≡ true → has_form s-PatternMember (node PatternProperty l (one k then one v then done)) ≡ true → IsSilent reads k
key-silent l k v read h =
    let computed : is_computed PatternProperty l ≡ true = computed-key l.flags (and_parts (has_computed PatternProperty l.flags) (not (is_literal_key k)) read).0 in
    let children = (node_form s-PatternMember PatternProperty l (one k then one v then done) h).children in
    let formed = subst (λ (b : Bool). has_form (if b then s-Expression else s-PropertyKey) k ≡ true) computed (and_parts (has_form (sort_at PatternProperty l s-PropertyKey) k) (has_form s-Pattern v && true) children).0 in
    (law_expression_proof k formed).declares_nothing

pub names-keys : (names : ℕ → Text → Option ℕ) {w v : Whole} {ps : Trees} {xs : List Bound} → NamesRead w ps xs v → trees_form s-PatternMember s-PatternMember (seen_among names ps) ≡ true → NamesKeys w (seen_among names ps) xs v
names-keys names no_properties h = k-no_properties
names-keys names (knows {p = p} {ps = ps} e r) h = k-knows (reads-seen names p ∙ e) (names-keys names r (first-formed s-PatternMember (seen names p) (seen_among names ps) h).1)
names-keys names (reads_one {w = w} {w' = v} {l = l} {k = k} {v = u} {ps = ps} {xs = xs} x e next r) h =
    let p : Tree = node PatternProperty l (one k then one u then done) in
    let parts = first-formed s-PatternMember (seen names p) (seen_among names ps) h in
    let same = next-is w (node_base k) x next in
    let read = reads-seen names p ∙ e in
    let fresh = subst (λ (b : Text). IsFreshName w.in_use b x.name) (sym (base-seen names k)) next.fresh in
    let more = subst (λ (b : Bound). NamesKeys (with_made (b ∷ []) w) (seen_among names ps) xs v) (sym same) (names-keys names r parts.1) in
    subst (λ (b : Bound). NamesKeys w (seen_among names (p before ps)) (b ∷ xs) v) same (k-reads_one x.name read (key-silent (bare_label l) (seen names k) (seen names u) read parts.0) fresh more)
