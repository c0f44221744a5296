-- A symbol is mutated exactly where its name is written.
use Rattle.std.proofs.Common.{◌≡◌, ℕ, zero, suc, Bool, true, false, ◌&&◌, ◌||◌, Option, Some, List, [], bytes_eq, refl, sym, ap, ap₂, ◌∙◌}
use Rattle.std.proofs.lemmas.List.Folds.{list_any-append}
use Rattle.std.specs.List.{list_any}
use Rattle.std.specs.Prelude.{if◌then◌else◌}
use Rattle.es_tree.specs.Words.{Text}
use Rattle.es_tree.specs.Fresh.{is_among}
use Rattle.es_tree.specs.Names.{first_text, is_name_place}
use Rattle.es_tree.specs.References.{Role, nothing, binding, refers, reads, role_at, own_references, references_at, references_in_fields, references_in_field, references_in_trees, is_symbol, writes_symbol, is_mutated_in}
use Rattle.es_tree.specs.Scopes.{declared_of, target_names, writes, is_written}
use Rattle.es_tree.specs.Symbols.{symbol_of}
use Rattle.es_tree.specs.Tree.{Tree, node, Label, Fields, done, ◌then◌, Field, missing, one, many, statements, Trees, empty, ◌before◌}
use Rattle.es_tree.specs.Walks.{any_node, any_in_fields, any_in_field, any_in_trees}
use Rattle.es_tree.specs.declared.ast_type.AstType.{AstType}
use Rattle.es_tree.specs.declared.ast_type.AstType.TheVariants.{Identifier, VariableDeclarator, AssignmentExpression, UpdateExpression, ParenthesizedExpression}
use Rattle.es_tree.proofs.SymbolNumbers.{number-decides}

abbrev role_writes : Role → Bool
role_writes nothing = false
role_writes binding = false
role_writes (refers r w) = w

abbrev field_targets : Field → List Text
field_targets (one t) = target_names t
field_targets _ = []

-- whether a field of a role that writes has this target
abbrev targeted : Text → (ℕ → Role) → Fields → Bool
targeted x roles done = false
targeted x roles (f then fs) = (role_writes (roles zero) && is_among (field_targets f) x) || targeted x (λ n. roles (suc n)) fs

or_swap : (p a q b : Bool) → ((p || a) || (q || b)) ≡ ((p || q) || (a || b))
or_swap true a q b = refl
or_swap false true true b = refl
or_swap false true false b = refl
or_swap false false q b = refl

or_assoc : (a b c : Bool) → ((a || b) || c) ≡ (a || (b || c))
or_assoc true b c = refl
or_assoc false b c = refl

and_false : (b : Bool) → (b && false) ≡ false
and_false true = refl
and_false false = refl

or_false : (b : Bool) → (b || false) ≡ b
or_false true = refl
or_false false = refl

-- roles of which none writes
quiet : (x : Text) (roles : ℕ → Role) → ((n : ℕ) → role_writes (roles n) ≡ false) → (fs : Fields) → targeted x roles fs ≡ false
quiet x roles h done = refl
quiet x roles h (f then fs) = rw (h zero) (quiet x (λ n. roles (suc n)) (λ n. h (suc n)) fs)

place_quiet : (b : Bool) → role_writes (if b then reads else nothing) ≡ false
place_quiet true = refl
place_quiet false = refl

declarator_quiet : (r : Role) (l : Label) (n : ℕ) → role_writes (role_at r VariableDeclarator l n) ≡ false
declarator_quiet r l zero = refl
declarator_quiet r l (suc n) = refl

module _ (find : Text → Option ℕ) (s : ℕ) (x : Text) (here : (y : Text) → is_symbol s (find y) ≡ bytes_eq y x) where
  own_writes : (r : Role) (l : Label) → list_any (writes_symbol s) (own_references find r Identifier l) ≡ (role_writes r && (bytes_eq (first_text l.texts) x || false))
  own_writes nothing l = refl
  own_writes binding l = refl
  own_writes (refers r w) l = or_false _ ∙ ap (λ b. w && b) (here (first_text l.texts) ∙ sym (or_false _))

  -- the first field alone may be a target
  first_target : (b c : Bool) (rest w : Bool) → rest ≡ false → w ≡ (b && c) → ((b && c) || rest) ≡ w
  first_target b c rest w e h = rw (e, h) (or_false (b && c))

  own : (r : Role) (k : AstType) (l : Label) (fs : Fields) →
      (list_any (writes_symbol s) (own_references find r k l) || targeted x (role_at r k l) fs) ≡ ((role_writes r && is_among (target_names (node k l fs)) x) || writes x k l fs)
  own r Identifier l fs = ap₂ (λ a b. a || b) (own_writes r l) (quiet x (role_at r Identifier l) (λ n. refl) fs)
  own r VariableDeclarator l fs = rw (and_false (role_writes r)) (quiet x (role_at r VariableDeclarator l) (declarator_quiet r l) fs)
  own r ParenthesizedExpression l done = rw (and_false (role_writes r)) refl
  own r ParenthesizedExpression l (missing then fs) = ap (λ b. (role_writes r && false) || b) (quiet x (λ n. reads) (λ n. refl) fs)
  own r ParenthesizedExpression l (one t then fs) = ap (λ b. (role_writes r && is_among (target_names t) x) || b) (quiet x (λ n. reads) (λ n. refl) fs)
  own r ParenthesizedExpression l (many ts then fs) = ap (λ b. (role_writes r && false) || b) (quiet x (λ n. reads) (λ n. refl) fs)
  own r ParenthesizedExpression l (statements ts then fs) = ap (λ b. (role_writes r && false) || b) (quiet x (λ n. reads) (λ n. refl) fs)
  own r AssignmentExpression l done = rw (and_false (role_writes r)) refl
  own r AssignmentExpression l (missing then fs) = rw (and_false (role_writes r)) (quiet x (λ n. reads) (λ n. refl) fs)
  own r AssignmentExpression l (one t then fs) = rw (and_false (role_writes r), quiet x (λ n. reads) (λ n. refl) fs) (or_false _)
  own r AssignmentExpression l (many ts then fs) = rw (and_false (role_writes r)) (quiet x (λ n. reads) (λ n. refl) fs)
  own r AssignmentExpression l (statements ts then fs) = rw (and_false (role_writes r)) (quiet x (λ n. reads) (λ n. refl) fs)
  own r UpdateExpression l done = rw (and_false (role_writes r)) refl
  own r UpdateExpression l (missing then fs) = rw (and_false (role_writes r)) (quiet x (λ n. reads) (λ n. refl) fs)
  own r UpdateExpression l (one t then fs) = rw (and_false (role_writes r), quiet x (λ n. reads) (λ n. refl) fs) (or_false _)
  own r UpdateExpression l (many ts then fs) = rw (and_false (role_writes r)) (quiet x (λ n. reads) (λ n. refl) fs)
  own r UpdateExpression l (statements ts then fs) = rw (and_false (role_writes r)) (quiet x (λ n. reads) (λ n. refl) fs)
  own r k l fs = rw (and_false (role_writes r)) (quiet x (role_at r k l) (λ n. place_quiet (is_name_place k l n)) fs)

  mutual
    written-tree : (r : Role) (t : Tree) → list_any (writes_symbol s) (references_at find r t) ≡ ((role_writes r && is_among (target_names t) x) || any_node (writes x) t)
    written-tree r (node k l fs) =
        list_any-append (writes_symbol s) (own_references find r k l) (references_in_fields find (role_at r k l) fs) ∙
        (ap (λ b. list_any (writes_symbol s) (own_references find r k l) || b) (written-fields (role_at r k l) fs) ∙
        (sym (or_assoc (list_any (writes_symbol s) (own_references find r k l)) (targeted x (role_at r k l) fs) (any_in_fields (writes x) fs)) ∙
        (ap (λ b. b || any_in_fields (writes x) fs) (own r k l fs) ∙
        or_assoc (role_writes r && is_among (target_names (node k l fs)) x) (writes x k l fs) (any_in_fields (writes x) fs))))

    written-fields : (roles : ℕ → Role) (fs : Fields) → list_any (writes_symbol s) (references_in_fields find roles fs) ≡ (targeted x roles fs || any_in_fields (writes x) fs)
    written-fields roles done = refl
    written-fields roles (f then fs) =
        list_any-append (writes_symbol s) (references_in_field find (roles zero) f) (references_in_fields find (λ n. roles (suc n)) fs) ∙
        (ap₂ (λ a b. a || b) (written-field (roles zero) f) (written-fields (λ n. roles (suc n)) fs) ∙
        or_swap (role_writes (roles zero) && is_among (field_targets f) x) (any_in_field (writes x) f) (targeted x (λ n. roles (suc n)) fs) (any_in_fields (writes x) fs))

    written-field : (r : Role) (f : Field) → list_any (writes_symbol s) (references_in_field find r f) ≡ ((role_writes r && is_among (field_targets f) x) || any_in_field (writes x) f)
    written-field r missing = sym (or_false _ ∙ and_false (role_writes r))
    written-field r (one t) = written-tree r t
    written-field r (many ts) = written-trees ts ∙ sym (ap (λ b. b || any_in_trees (writes x) ts) (and_false (role_writes r)))
    written-field r (statements ts) = written-trees ts ∙ sym (ap (λ b. b || any_in_trees (writes x) ts) (and_false (role_writes r)))

    written-trees : (ts : Trees) → list_any (writes_symbol s) (references_in_trees find ts) ≡ any_in_trees (writes x) ts
    written-trees empty = refl
    written-trees (t before ts) =
        list_any-append (writes_symbol s) (references_at find reads t) (references_in_trees find ts) ∙
        ap₂ (λ a b. a || b) (written-tree reads t) (written-trees ts)

-- the symbol of a name is mutated where a reference of the program writes the name
pub mutated-written : (p : Tree) (x : Text) (s : ℕ) → symbol_of (declared_of p) x ≡ Some s → is_mutated_in p s ≡ is_written x p
mutated-written p x s e = written-tree (symbol_of (declared_of p)) s x (λ y. number-decides (declared_of p) x y s e) reads p
