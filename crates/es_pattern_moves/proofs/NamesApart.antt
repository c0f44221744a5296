-- Where no name stands in a tree that passes a test, and a list binds only names that do, the names of the tree are in use but for those.
use Rattle.std.proofs.Common.{◌≡◌, ℕ, zero, suc, refl, sym, subst, List, true≢false}
use Rattle.std.specs.Prelude.{Bool, true, false, not, if◌then◌else◌}
use Rattle.std.proofs.lemmas.Bool.{and_from, not_from_false, or_parts}
use Rattle.es_tree.specs.Names.{first_text, is_name_place}
use Rattle.es_tree.specs.Tree.{Tree, node, Label, Fields, done, ◌then◌, Field, missing, one, many, statements, Trees, empty, ◌before◌}
use Rattle.es_tree.specs.Words.{Text}
use Rattle.es_tree.specs.declared.ast_type.AstType.{AstType}
use Rattle.es_tree.specs.declared.ast_type.AstType.TheVariants.{BreakStatement, ContinueStatement, ExportAllDeclaration, ExportSpecifier, Identifier, ImportSpecifier, LabeledStatement, MemberExpression, MethodDefinition, ObjectProperty, PatternProperty, PropertyDefinition, TargetProperty}
use Rattle.es_semantic.specs.RolesOf.{reads, role_at}
use Rattle.es_semantic.specs.declared.place.Role.{Role}
use Rattle.es_semantic.specs.declared.place.Role.TheVariants.{Nothing}
use Rattle.es_resolution.specs.Declarations.{Bound}
use Rattle.es_resolution.specs.Named.{IsUsed, Named, NamedAll, NamedBy, NamedIn, OwnUsed}
use Rattle.es_resolution.specs.Resolved.{bound_by}
use Rattle.es_steps.specs.Patterns.{avoiding}
use Rattle.es_pattern_moves.specs.PatternMoves.{own_stands, stands_among, stands_if, stands_in_field, stands_in_fields}

-- an identifier at a place that is no name place is no name
at-place : (b : Bool) → b ≡ false → (if b then reads else Nothing) ≡ Nothing
at-place true e = absurd (cc e)
at-place false e = refl

pub place-role : (r : Role) (k : AstType) (l : Label) (fs : Fields) (i : ℕ) → is_name_place k l i ≡ false → role_at r k l fs i ≡ Nothing
place-role r MemberExpression l fs (suc zero) e = at-place (is_name_place MemberExpression l (suc zero)) e
place-role r MethodDefinition l fs zero e = at-place (is_name_place MethodDefinition l zero) e
place-role r PropertyDefinition l fs zero e = at-place (is_name_place PropertyDefinition l zero) e
place-role r ObjectProperty l fs zero e = at-place (is_name_place ObjectProperty l zero) e
place-role r PatternProperty l fs zero e = at-place (is_name_place PatternProperty l zero) e
place-role r TargetProperty l fs zero e = at-place (is_name_place TargetProperty l zero) e
place-role r BreakStatement l fs zero e = refl
place-role r ContinueStatement l fs zero e = refl
place-role r LabeledStatement l fs zero e = refl
place-role r ImportSpecifier l fs zero e = refl
place-role r ExportSpecifier l fs (suc zero) e = refl
place-role r ExportAllDeclaration l fs zero e = refl
place-role r k l fs i e = absurd (cc e)

module _ (test : Text → Bool) (bs : List Bound) (apart : (y : Text) → test y ≡ false → bound_by bs y ≡ false) (in_use : Text → Bool) (free : ℕ) where
  use-apart : (r : Role) (x : Text) → test x ≡ false → IsUsed in_use r x → IsUsed (avoiding bs in_use) r x
  use-apart Nothing x e h = tt
  use-apart _ x e h = and_from (in_use x) (not (bound_by bs x)) h (not_from_false (bound_by bs x) (apart x e))

  own-apart : (counts : Bool) (r : Role) (k : AstType) (l : Label) → (counts ≡ false → r ≡ Nothing) → own_stands test counts k l ≡ false → OwnUsed in_use r k l → OwnUsed (avoiding bs in_use) r k l
  own-apart true r Identifier l none e h = use-apart r (first_text l.texts) e h
  own-apart false r Identifier l none e h = subst (λ (q : Role). IsUsed (avoiding bs in_use) q (first_text l.texts)) (sym (none refl)) tt
  own-apart counts r _ l none e h = tt

  mutual
    tree-apart : (counts : Bool) (r : Role) (t : Tree) → (counts ≡ false → r ≡ Nothing) → stands_if test counts t ≡ false → Named in_use free r t → Named (avoiding bs in_use) free r t
    tree-apart counts r (node k l fs) none e h =
        let d = or_parts (own_stands test counts k l) (stands_in_fields test (is_name_place k l) fs) e in
        ((own-apart counts r k l none d.0 h.0.0, h.0.1), in-apart (is_name_place k l) (role_at r k l fs) fs (place-role r k l fs) d.1 h.1)

    in-apart : (counts : ℕ → Bool) (roles : ℕ → Role) (fs : Fields) → ((i : ℕ) → counts i ≡ false → roles i ≡ Nothing) → stands_in_fields test counts fs ≡ false → NamedIn in_use free roles fs → NamedIn (avoiding bs in_use) free roles fs
    in-apart counts roles done none e h = tt
    in-apart counts roles (f then fs) none e h =
        let d = or_parts (stands_in_field test (counts zero) f) (stands_in_fields test (λ i. counts (suc i)) fs) e in
        (by-apart (counts zero) (roles zero) f (none zero) d.0 h.0, in-apart (λ i. counts (suc i)) (λ i. roles (suc i)) fs (λ i. none (suc i)) d.1 h.1)

    by-apart : (counts : Bool) (r : Role) (f : Field) → (counts ≡ false → r ≡ Nothing) → stands_in_field test counts f ≡ false → NamedBy in_use free r f → NamedBy (avoiding bs in_use) free r f
    by-apart counts r missing none e h = tt
    by-apart counts r (one t) none e h = tree-apart counts r t none e h
    by-apart counts r (many ts) none e h = all-apart r ts e h
    by-apart counts r (statements ts) none e h = all-apart r ts e h

    pub all-apart : (r : Role) (ts : Trees) → stands_among test ts ≡ false → NamedAll in_use free r ts → NamedAll (avoiding bs in_use) free r ts
    all-apart r empty e h = tt
    all-apart r (t before ts) e h =
        let d = or_parts (stands_if test true t) (stands_among test ts) e in
        (tree-apart true r t (λ c. absurd (true≢false c)) d.0 h.0, all-apart r ts d.1 h.1)

  pub named-apart : (r : Role) (t : Tree) → stands_if test true t ≡ false → Named in_use free r t → Named (avoiding bs in_use) free r t
  named-apart r t e h = tree-apart true r t (λ c. absurd (true≢false c)) e h
