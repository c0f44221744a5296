-- Names that are not among the names of a core tree stand nowhere in it.
use Rattle.std.proofs.Common.{◌≡◌, ℕ, zero, suc, refl, List, [], ◌∷◌, ◌++◌}
use Rattle.std.specs.Prelude.{Bool, true, false, ◌||◌, ◌&&◌, bytes_eq, if◌then◌else◌}
use Rattle.es_tree.specs.Words.{Text}
use Rattle.es_tree.specs.Names.{first_text, names_if, names_in_fields, names_in_field, names_in_trees, own_name, is_name_place, is_reexport, flag_at}
use Rattle.es_tree.specs.Fresh.{is_among}
use Rattle.es_tree.specs.Walks.{all_nodes, all_in_fields, all_in_field, all_in_trees}
use Rattle.es_tree.specs.Core.{is_core_node}
use Rattle.es_tree.specs.Tree.{Tree, node, Label, Fields, done, ◌then◌, Field, missing, one, many, statements, Trees, empty, ◌before◌}
use Rattle.es_tree.specs.declared.ast_type.AstType.{AstType}
use Rattle.es_tree.specs.declared.ast_type.AstType.TheVariants.{Identifier, MemberExpression, ExportNamedDeclaration}
use Rattle.es_runs.specs.Core.{flag, flag_after}
use Rattle.es_runs.specs.Alike.{Level, Need, needs, member_needs, bad_names, is_bad, touches, touches_fields, touches_field, touches_nodes}
use Rattle.es_runs.specs.Alike.Level.{no_evaluation, value_alone, an_operand_of_typeof, whole_reference, a_callee, a_target}
use Rattle.es_runs.specs.Runs.{none_hidden}
use Rattle.es_runs.proofs.Temporary.{bytes_eq-self}

pub and_left : (a b : Bool) → (a && b) ≡ true → a ≡ true
and_left true b h = refl
and_left false b h = h

pub and_right : (a b : Bool) → (a && b) ≡ true → b ≡ true
and_right true b h = h
and_right false b h = absurd (cc h)

pub or_both : (a b : Bool) → a ≡ false → b ≡ false → (a || b) ≡ false
or_both a b e d = rw (e, d)

pub or_first : (a b : Bool) → (a || b) ≡ false → a ≡ false
or_first true b h = h
or_first false b h = refl

pub or_second : (a b : Bool) → (a || b) ≡ false → b ≡ false
or_second true b h = absurd (cc h)
or_second false b h = h

or_assoc : (a b c : Bool) → (a || (b || c)) ≡ ((a || b) || c)
or_assoc true b c = refl
or_assoc false b c = refl

pub among-append : (xs ys : List Text) (x : Text) → is_among (xs ++ ys) x ≡ (is_among xs x || is_among ys x)
among-append [] ys x = refl
among-append (y ∷ xs) ys x = rw (among-append xs ys x) (or_assoc (bytes_eq y x) (is_among xs x) (is_among ys x))

pub among_first : (xs ys : List Text) (x : Text) → is_among (xs ++ ys) x ≡ false → is_among xs x ≡ false
among_first xs ys x h = or_first (is_among xs x) (is_among ys x) (rw among-append at h)

pub among_second : (xs ys : List Text) (x : Text) → is_among (xs ++ ys) x ≡ false → is_among ys x ≡ false
among_second xs ys x h = or_second (is_among xs x) (is_among ys x) (rw among-append at h)

pub core_exports : (k : AstType) (l : Label) (fs gs : Fields) → is_core_node k l fs ≡ true → is_reexport k gs ≡ false
core_exports ExportNamedDeclaration l fs gs h = absurd (cc h)
core_exports _ l fs gs h = refl

-- where an identifier doesn't count as a name, it isn't evaluated
abbrev pub Quiet : Need → Bool → Type 0
Quiet n counts = counts ≡ false → n.level ≡ no_evaluation

member_quiet : (form marked : Bool) (bs : List Bool) (i : ℕ) (l : Label) → l.flags ≡ bs → is_name_place MemberExpression l i ≡ false → (member_needs form (flag bs) marked i).level ≡ no_evaluation
member_quiet form marked bs zero l e h = absurd (cc h)
member_quiet form marked [] (suc zero) l e h = refl
member_quiet form marked (true ∷ bs) (suc zero) l e h = let k : flag_at 0 (true ∷ bs) ≡ false = rw e at h in absurd (cc k)
member_quiet form marked (false ∷ bs) (suc zero) l e h = refl
member_quiet form marked bs (suc (suc i)) l e h = absurd (cc h)

pub core_quiet : (k : AstType) (l : Label) (fs : Fields) (n : Need) (i : ℕ) → is_core_node k l fs ≡ true → Quiet (needs n k l.texts l.flags i) (is_name_place k l i)
core_quiet MemberExpression l fs n i core h = member_quiet n.form (flag_after l.flags) l.flags i l refl h
core_quiet _ l fs n i core h = absurd (cc (core, h))

level_free : (hidden : Text → Bool) (level : Level) (y : Text) → hidden y ≡ false → bad_names hidden none_hidden level y ≡ false
level_free hidden no_evaluation y h = refl
level_free hidden value_alone y h = h
level_free hidden an_operand_of_typeof y h = h
level_free hidden whole_reference y h = h
level_free hidden a_callee y h = h
level_free hidden a_target y h = rw h

-- none of these names is hidden
abbrev pub Unhidden : (Text → Bool) → List Text → Type 0
Unhidden hidden names = (x : Text) → hidden x ≡ true → is_among names x ≡ false

unhidden_first : (hidden : Text → Bool) (xs ys : List Text) → Unhidden hidden (xs ++ ys) → Unhidden hidden xs
unhidden_first hidden xs ys h x e = among_first xs ys x (h x e)

unhidden_second : (hidden : Text → Bool) (xs ys : List Text) → Unhidden hidden (xs ++ ys) → Unhidden hidden ys
unhidden_second hidden xs ys h x e = among_second xs ys x (h x e)

unhidden_name : (hidden : Text → Bool) (y : Text) → Unhidden hidden (y ∷ []) → hidden y ≡ false
unhidden_name hidden y h = at (hidden y) refl
  where
    at : (b : Bool) → hidden y ≡ b → b ≡ false
    at false e = refl
    at true e = absurd (cc (or_first (bytes_eq y y) false (h y e), bytes_eq-self y))

own_free : (hidden : Text → Bool) (n : Need) (counts : Bool) (k : AstType) (l : Label) → Unhidden hidden (own_name counts k l) → Quiet n counts → is_bad (bad_names hidden none_hidden) n.level k l.texts ≡ false
own_free hidden n true Identifier l h quiet = level_free hidden n.level (first_text l.texts) (unhidden_name hidden (first_text l.texts) h)
own_free hidden n false Identifier l h quiet = rw (quiet refl)
own_free hidden n counts _ l h quiet = refl

pub names_below : (k : AstType) (l : Label) (fs : Fields) (b : Bool) → b ≡ false → (if b then [] else names_in_fields (is_name_place k l) fs) ≡ names_in_fields (is_name_place k l) fs
names_below k l fs b e = rw e

module _ (hidden : Text → Bool) where
  mutual
    pub node_free : (t : Tree) (n : Need) (counts : Bool) → all_nodes is_core_node t ≡ true → Unhidden hidden (names_if counts t) → Quiet n counts → touches (bad_names hidden none_hidden) n t ≡ false
    node_free (node k l fs) n counts core free quiet =
        let own = and_left (is_core_node k l fs) (all_in_fields is_core_node fs) core in
        let rest = unhidden_second hidden (own_name counts k l) (if is_reexport k fs then [] else names_in_fields (is_name_place k l) fs) free in
        or_both (is_bad (bad_names hidden none_hidden) n.level k l.texts) (touches_fields (bad_names hidden none_hidden) (needs n k l.texts l.flags) fs)
        (own_free hidden n counts k l (unhidden_first hidden (own_name counts k l) (if is_reexport k fs then [] else names_in_fields (is_name_place k l) fs) free) quiet)
        (fields_free fs (needs n k l.texts l.flags) (is_name_place k l) (and_right (is_core_node k l fs) (all_in_fields is_core_node fs) core)
        (rw (names_below k l fs (is_reexport k fs) (core_exports k l fs fs own)) at rest) (λ i. core_quiet k l fs n i own))

    fields_free : (fs : Fields) (c : ℕ → Need) (p : ℕ → Bool) → all_in_fields is_core_node fs ≡ true → Unhidden hidden (names_in_fields p fs) → ((i : ℕ) → Quiet (c i) (p i)) → touches_fields (bad_names hidden none_hidden) c fs ≡ false
    fields_free done c p core free quiet = refl
    fields_free (f then fs) c p core free quiet =
        or_both (touches_field (bad_names hidden none_hidden) (c zero) f) (touches_fields (bad_names hidden none_hidden) (λ i. c (suc i)) fs)
        (field_free f (c zero) (p zero) (and_left (all_in_field is_core_node f) (all_in_fields is_core_node fs) core) (unhidden_first hidden (names_in_field (p zero) f) (names_in_fields (λ i. p (suc i)) fs) free) (quiet zero))
        (fields_free fs (λ i. c (suc i)) (λ i. p (suc i)) (and_right (all_in_field is_core_node f) (all_in_fields is_core_node fs) core) (unhidden_second hidden (names_in_field (p zero) f) (names_in_fields (λ i. p (suc i)) fs) free) (λ i. quiet (suc i)))

    field_free : (f : Field) (n : Need) (counts : Bool) → all_in_field is_core_node f ≡ true → Unhidden hidden (names_in_field counts f) → Quiet n counts → touches_field (bad_names hidden none_hidden) n f ≡ false
    field_free missing n counts core free quiet = refl
    field_free (one t) n counts core free quiet = node_free t n counts core free quiet
    field_free (many ts) n counts core free quiet = trees_free ts n core free
    field_free (statements ts) n counts core free quiet = trees_free ts n core free

    trees_free : (ts : Trees) (n : Need) → all_in_trees is_core_node ts ≡ true → Unhidden hidden (names_in_trees ts) → touches_nodes (bad_names hidden none_hidden) n ts ≡ false
    trees_free empty n core free = refl
    trees_free (t before ts) n core free =
        or_both (touches (bad_names hidden none_hidden) n t) (touches_nodes (bad_names hidden none_hidden) n ts)
        (node_free t n true (and_left (all_nodes is_core_node t) (all_in_trees is_core_node ts) core) (unhidden_first hidden (names_if true t) (names_in_trees ts) free) (λ e. absurd (cc e)))
        (trees_free ts n (and_right (all_nodes is_core_node t) (all_in_trees is_core_node ts) core) (unhidden_second hidden (names_if true t) (names_in_trees ts) free))
