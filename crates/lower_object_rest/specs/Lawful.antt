-- The laws of the lowering of object rests.
use Rattle.std.proofs.Common.{arith, refl, ◌∙◌, ◌≡◌, ◌≤◌}
use Rattle.std.proofs.lemmas.Bool.{or_from, or_parts}
use Rattle.std.specs.Prelude.{Bool, false, is_some, true, ◌||◌, ℕ}
use Rattle.es_tree.specs.Tree.{Fields, Label, Tree, Trees, done, empty, many, missing, node, one, statements, ◌before◌, ◌then◌}
use Rattle.es_tree.specs.Walks.{any_in_fields}
use Rattle.es_tree.specs.declared.ast_type.AstType.{AstType}
use Rattle.es_tree.specs.declared.ast_type.AstType.TheVariants.{ExportNamedDeclaration}
use Rattle.es_tree.specs.declared.options.EnvOptions.{EnvOptions}
use Rattle.es_rest_shapes.specs.RestShapes.{any_child, any_tree, declares_rest, is_misplaced}
use Rattle.lower_nodes.specs.Nodes.{AlikeIn, IsNodeLawful, bars_in, each_barred}
use Rattle.lower_object_rest.specs.Profile.{barred_where, is_declaration, object_rest_profile, profile_where, rest_owes}
use Rattle.lower_object_rest.specs.Rule.{rest_rule}
use Rattle.lower_object_rest.specs.Stays.{declaration_alike, owes_alike, stray_alike}

-- what stands in no export is not barred

no_declaration : (t : Tree) → (is_misplaced t || declares_rest t) ≡ false → declares_rest t ≡ false
no_declaration t h = (or_parts (is_misplaced t) (declares_rest t) h).1

each_exported : (ts : Trees) → any_tree (λ t. is_misplaced t || declares_rest t) ts ≡ false → each_barred declares_rest ts ≡ false
each_exported empty h = refl
each_exported (t before ts) h =
    let parts = or_parts (is_misplaced t || declares_rest t) (any_tree (λ u. is_misplaced u || declares_rest u) ts) h in
    or_from (declares_rest t) (each_barred declares_rest ts) (no_declaration t parts.0) (each_exported ts parts.1)

none_exported : (fs : Fields) → any_child (λ t. is_misplaced t || declares_rest t) fs ≡ false → bars_in (λ i t. declares_rest t) fs ≡ false
none_exported done h = refl
none_exported (missing then fs) h = none_exported fs h
none_exported (one t then fs) h =
    let parts = or_parts (is_misplaced t || declares_rest t) (any_child (λ u. is_misplaced u || declares_rest u) fs) h in
    or_from (declares_rest t) (bars_in (λ i u. declares_rest u) fs) (no_declaration t parts.0) (none_exported fs parts.1)
none_exported (many ts then fs) h =
    let parts = or_parts (any_tree (λ t. is_misplaced t || declares_rest t) ts) (any_child (λ t. is_misplaced t || declares_rest t) fs) h in
    or_from (each_barred declares_rest ts) (bars_in (λ i t. declares_rest t) fs) (each_exported ts parts.0) (none_exported fs parts.1)
none_exported (statements ts then fs) h =
    let parts = or_parts (any_tree (λ t. is_misplaced t || declares_rest t) ts) (any_child (λ t. is_misplaced t || declares_rest t) fs) h in
    or_from (each_barred declares_rest ts) (bars_in (λ i t. declares_rest t) fs) (each_exported ts parts.0) (none_exported fs parts.1)

each_never : (ts : Trees) → each_barred (λ t. false) ts ≡ false
each_never empty = refl
each_never (t before ts) = each_never ts

never_barred : (fs : Fields) → bars_in (λ i t. false) fs ≡ false
never_barred done = refl
never_barred (missing then fs) = never_barred fs
never_barred (one t then fs) = never_barred fs
never_barred (many ts then fs) = or_from (each_barred (λ t. false) ts) (bars_in (λ i t. false) fs) (each_never ts) (never_barred fs)
never_barred (statements ts then fs) = or_from (each_barred (λ t. false) ts) (bars_in (λ i t. false) fs) (each_never ts) (never_barred fs)

inward_where : (on : Bool) (k : AstType) (l : Label) (fs : Fields) → (profile_where on).strays k l fs ≡ false → bars_in (barred_where on k) fs ≡ false
inward_where true ExportNamedDeclaration l fs h = none_exported fs h
inward_where false ExportNamedDeclaration l fs h = never_barred fs
inward_where on _ l fs h = never_barred fs

stable_where : (on : Bool) (k : AstType) (l : Label) (fs gs : Fields) → AlikeIn is_declaration fs gs → any_in_fields (profile_where on).constructs gs ≡ false → (profile_where on).strays k l fs ≡ false → (profile_where on).strays k l gs ≡ false
stable_where true k l fs gs h none e = stray_alike k l h none e
stable_where false k l fs gs h none e = refl

unbarred_where : (on : Bool) (q : AstType) (i : ℕ) (k : AstType) (l : Label) (fs gs : Fields) → AlikeIn is_declaration fs gs → barred_where on q i (node k l fs) ≡ false → barred_where on q i (node k l gs) ≡ false
unbarred_where true ExportNamedDeclaration i k l fs gs h e = declaration_alike k l h ∙ e
unbarred_where false ExportNamedDeclaration i k l fs gs h e = refl
unbarred_where on _ i k l fs gs h e = refl

lighter_owed : (k : AstType) (l : Label) (fs gs : Fields) → AlikeIn is_declaration fs gs → rest_owes k l gs ≤ rest_owes k l fs
lighter_owed k l fs gs h = let same = owes_alike k l h in omega (arith, same)

lawful_where : (on : Bool) → IsNodeLawful (profile_where on)
lawful_where true = record {
  rule = rest_rule true;
  root = λ l fs. refl;
  directive = λ l fs. refl;
  inward = inward_where true;
  stable = stable_where true;
  unbarred = λ q i k l fs gs h none e. unbarred_where true q i k l fs gs h e;
  lighter = lighter_owed;
  classes = (refl, refl);
}
lawful_where false = record {
  rule = rest_rule false;
  root = λ l fs. refl;
  directive = λ l fs. refl;
  inward = inward_where false;
  stable = stable_where false;
  unbarred = λ q i k l fs gs h none e. unbarred_where false q i k l fs gs h e;
  lighter = lighter_owed;
  classes = (refl, refl);
}

pub object_rest_lawful : (o : EnvOptions) → IsNodeLawful (object_rest_profile o)
object_rest_lawful o = lawful_where (is_some o.es2018.object_rest_spread)
