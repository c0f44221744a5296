-- A declaration, and what the lowering promises of it.
use Rattle.std.proofs.Common.{ap, arith, refl, subst, sym, true≢false, ◌==◌, ◌∙◌, ◌≡◌, Option, ℕ}
use Rattle.std.proofs.lemmas.Bool.{and_parts, or_from, or_parts}
use Rattle.std.specs.Prelude.{Bool, false, is_some, true, ◌&&◌, ◌||◌}
use Rattle.es_tree.specs.Bare.{bare_label}
use Rattle.es_tree.specs.HasForm.{has_form, same_type}
use Rattle.es_tree.specs.Tree.{Field, Fields, Label, Tree, Trees, done, empty, many, missing, node, one, statements, tree_size, trees, ◌before◌, ◌then◌}
use Rattle.es_tree.specs.Walks.{any_in_field, any_in_fields, any_in_trees, any_node}
use Rattle.es_tree.specs.Words.{Text}
use Rattle.es_tree.specs.declared.ast_type.AstType.{AstType}
use Rattle.es_tree.specs.declared.ast_type.AstType.TheVariants.{ExportNamedDeclaration, VariableDeclaration, VariableDeclarator}
use Rattle.es_tree.specs.declared.options.EnvOptions.{EnvOptions}
use Rattle.es_tree.specs.declared.table.Sort.{Sort}
use Rattle.es_tree.proofs.NodeForm.{node_form}
use Rattle.es_scope.specs.declared.context.TraverseCtx.{TraverseCtx}
use Rattle.es_resolution.specs.Declarations.{Bound}
use Rattle.es_resolution.specs.Seen.{seen, seen_among, seen_in}
use Rattle.es_steps.specs.Nodes.{joined_trees}
use Rattle.es_steps.specs.Open.{Additions, Pending, opened}
use Rattle.es_steps.specs.Steps.{Site, Step, Steps, ledger}
use Rattle.es_steps.specs.Steps.Steps.{stays}
use Rattle.es_steps.proofs.Lists.{joined-empty}
use Rattle.es_changes.specs.Moments.{whole_at}
use Rattle.es_traverse.specs.Laws.{Seen, is_construct}
use Rattle.es_valid_rests.proofs.RestFormsDeclared.{declaration-parts}
use Rattle.es_rest_rows.specs.RestRows.{RestWalkRow, declaring, is_exported}
use Rattle.es_rest_shapes.specs.RestShapes.{any_tree, declares_rest, is_rest_declaration, is_rest_declarator, is_stray_rest}
use Rattle.lower_nodes.specs.Nodes.{Alike, Lowered, PaidTree, Stands, owed}
use Rattle.lower_nodes.specs.Nodes.Alike.{changed}
use Rattle.lower_temporaries.specs.Takings.{moment_of}
use Rattle.lower_temporaries.specs.declared.state.TransformState.{TransformState}
use Rattle.lower_object_rest.specs.Declarators.{AreKnown}
use Rattle.lower_object_rest.specs.Profile.{barred_where, is_declaration, object_rest_profile, profile_where, rest_owes, test_where}
use Rattle.lower_object_rest.specs.Shapes.{is_lowerable, is_lowerable_declaration}
use Rattle.lower_object_rest.specs.Whole.{LowersDeclaration}
use Rattle.lower_object_rest.proofs.Declarators.{no-rest}
use Rattle.lower_object_rest.proofs.PatternShapes.{pattern-bears}
use Rattle.lower_object_rest.proofs.SeenShapes.{lowerable-seen}

-- WHAT IS LOWERED, and what is seen of it

lowerable-rest : (d : Tree) → is_lowerable d ≡ true → is_rest_declarator d ≡ true
lowerable-rest (node VariableDeclarator l (one p then (one e then done))) h = pattern-bears p h
lowerable-rest (node VariableDeclarator l done) h = absurd (cc h)
lowerable-rest (node VariableDeclarator l (missing then fs)) h = absurd (cc h)
lowerable-rest (node VariableDeclarator l (many ts then fs)) h = absurd (cc h)
lowerable-rest (node VariableDeclarator l (statements ts then fs)) h = absurd (cc h)
lowerable-rest (node VariableDeclarator l (one p then done)) h = absurd (cc h)
lowerable-rest (node VariableDeclarator l (one p then (missing then fs))) h = absurd (cc h)
lowerable-rest (node VariableDeclarator l (one p then (many ts then fs))) h = absurd (cc h)
lowerable-rest (node VariableDeclarator l (one p then (statements ts then fs))) h = absurd (cc h)
lowerable-rest (node VariableDeclarator l (one p then (one e then (f then fs)))) h = absurd (cc h)
lowerable-rest (node _ l fs) h = absurd (cc h)

lowerable-among : (ds : Trees) → any_tree is_lowerable ds ≡ true → any_tree is_rest_declarator ds ≡ true
lowerable-among empty h = absurd (cc h)
lowerable-among (d before ds) h = at (λ k. lowerable-among ds k) (is_lowerable d) refl
  where
    some : (a b : Bool) → a ≡ true → (a || b) ≡ true
    some a b e = ap (λ c. c || b) e

    later : (a b : Bool) → b ≡ true → (a || b) ≡ true
    later true b e = refl
    later false b e = e

    at : (any_tree is_lowerable ds ≡ true → any_tree is_rest_declarator ds ≡ true) → (b : Bool) → is_lowerable d ≡ b → any_tree is_rest_declarator (d before ds) ≡ true
    at more true e = some (is_rest_declarator d) (any_tree is_rest_declarator ds) (lowerable-rest d e)
    at more false e = later (is_rest_declarator d) (any_tree is_rest_declarator ds) (more (ap (λ c. c || any_tree is_lowerable ds) (sym e) ∙ h))

module _ (names : ℕ → Text → Option ℕ) where
  any-lowerable-seen : (ds : Trees) → any_tree is_lowerable (seen_among names ds) ≡ any_tree is_lowerable ds
  any-lowerable-seen empty = refl
  any-lowerable-seen (d before ds) = λ i. lowerable-seen names d i || any-lowerable-seen ds i

  fields-seen : (l m : Label) (fs : Fields) → is_lowerable_declaration VariableDeclaration m (seen_in names fs) ≡ is_lowerable_declaration VariableDeclaration l fs
  fields-seen l m (many ds then done) = any-lowerable-seen ds
  fields-seen l m done = refl
  fields-seen l m (missing then fs) = refl
  fields-seen l m (one t then fs) = refl
  fields-seen l m (statements ts then fs) = refl
  fields-seen l m (many ts then (f then fs)) = refl

  declaration-seen : (t : Tree) → is_construct is_lowerable_declaration (seen names t) ≡ is_construct is_lowerable_declaration t
  declaration-seen (node VariableDeclaration l fs) = fields-seen l (bare_label l) fs
  declaration-seen (node _ l fs) = refl

-- A DECLARATION, where it stands

module _ (k : AstType) (i : ℕ) (n : Site) (m : Label) (ds : Trees) (s : Stands (profile_where true) k i n (declaring m ds)) where
  declaration-known : AreKnown ds
  declaration-known = record {
    formed = declaration-parts s.sort m ds s.formed;
    strays = (or_parts (any_in_trees is_stray_rest ds) false (or_parts (is_stray_rest VariableDeclaration m (many ds then done)) (any_in_trees is_stray_rest ds || false) s.strays).1).0;
    inside = (or_parts (any_in_trees is_rest_declaration ds) false s.inside).0;
  }

  declaration-inside : any_tree is_rest_declarator ds ≡ true → is_exported n ≡ false
  declaration-inside rest = s.place ExportNamedDeclaration 0 ∙ at k s.barred
    where
      at : (k : AstType) → barred_where true k i (declaring m ds) ≡ false → (same_type k ExportNamedDeclaration && i == 0) ≡ false
      at ExportNamedDeclaration h = absurd (true≢false (sym rest ∙ h))
      at _ h = refl

-- IT WAS LOWERED

module _ (old new : TraverseCtx TransformState) (t u : Tree) (h : LowersDeclaration old new t u) where
  pub paid-declaration : PaidTree rest_owes (moment_of old) t (moment_of new) u
  paid-declaration =
      let p = h.lowers.paid in
      let owed_before = ap (owed rest_owes) h.was in
      let owed_after = ap (owed rest_owes) h.becomes in
      let size_before = ap tree_size h.was in
      let size_after = ap tree_size h.becomes in
      record {
        lists = p.lists;
        around = p.around;
        options = p.options;
        counted = p.counted;
        lighter = omega (arith, p.lighter, owed_before, owed_after);
        nodes = omega (arith, p.nodes, size_before, size_after);
      }

  pub alike-declaration : Alike is_declaration t u
  alike-declaration = subst (λ (v : Tree). Alike is_declaration v u) (sym h.was) (subst (λ (v : Tree). Alike is_declaration (declaring h.label (trees h.first)) v) (sym h.becomes) (changed refl))

  abbrev LoweredAs : Tree → Tree → Type 0
  LoweredAs v w = Lowered (profile_where true) (moment_of old) v (moment_of new) w

  pub lowered-declaration : is_construct is_lowerable_declaration t ≡ true → Seen LoweredAs t u
  lowered-declaration low names =
      let m = bare_label h.label in
      let ds = seen_among names (trees h.first) in
      let us = seen_among names (trees h.last) in
      let some : any_tree is_lowerable ds ≡ true = any-lowerable-seen names (trees h.first) ∙ (sym (ap (is_construct is_lowerable_declaration) h.was) ∙ low) in
      let rest = lowerable-among ds some in
      let rows = h.lowers.rows names in
      let steps = λ (k : AstType) (i : ℕ) (n : Site) (s : Stands (profile_where true) k i n (declaring m ds)) (q : Pending) (x : Option Bound) (y : Additions).
      rows.steps (declaration-known k i n m ds s) n m empty empty (declaration-inside k i n m ds s rest) refl refl q x y in
      let lowered : LoweredAs (declaring m ds) (declaring m us) = record {
        steps = λ k i n s q x y.
            subst (λ (ts : Trees). Steps (Step RestWalkRow n) (ledger (whole_at (moment_of old)) q x y) (opened (declaring m ts)) (ledger (whole_at (moment_of new)) q x y) (opened (declaring m us))) (joined-empty ds)
            (subst (λ (ts : Trees). Steps (Step RestWalkRow n) (ledger (whole_at (moment_of old)) q x y) (opened (declaring m (joined_trees ds empty))) (ledger (whole_at (moment_of new)) q x y) (opened (declaring m ts))) (joined-empty us) (steps k i n s q x y));
        none = λ k i n s. let settled = rows.settled (declaration-known k i n m ds s) in λ j. settled.rests j || (settled.inside j || false);
        clear = λ k i n s. let settled = rows.settled (declaration-known k i n m ds s) in λ j. settled.patterns j || (settled.strays j || false);
      } in
      subst (λ (v : Tree). LoweredAs (seen names v) (seen names u)) (sym h.was) (subst (λ (w : Tree). LoweredAs (declaring m ds) (seen names w)) (sym h.becomes) lowered)

-- IT WAS LEFT

no-rests : (ds : Trees) → any_tree is_lowerable ds ≡ false → any_in_trees is_stray_rest ds ≡ false → any_tree is_rest_declarator ds ≡ false
no-rests empty low h = refl
no-rests (d before ds) low h =
    let lows = or_parts (is_lowerable d) (any_tree is_lowerable ds) low in
    let strays = or_parts (any_node is_stray_rest d) (any_in_trees is_stray_rest ds) h in
    or_from (is_rest_declarator d) (any_tree is_rest_declarator ds) (no-rest d lows.0 strays.0) (no-rests ds lows.1 strays.1)

none-itself : (s : Sort) (t : Tree) → is_construct is_lowerable_declaration t ≡ false → has_form s t ≡ true → any_node is_stray_rest t ≡ false → declares_rest t ≡ false
none-itself s (node VariableDeclaration l (many ds then done)) low formed h = no-rests ds low (or_parts (any_in_trees is_stray_rest ds) false (or_parts (is_stray_rest VariableDeclaration l (many ds then done)) (any_in_trees is_stray_rest ds || false) h).1).0
none-itself s (node VariableDeclaration l (many ds then (f then fs))) low formed h = absurd (cc (and_parts _ false (node_form s VariableDeclaration l (many ds then (f then fs)) formed).children).1)
none-itself s (node VariableDeclaration l done) low formed h = refl
none-itself s (node VariableDeclaration l (missing then fs)) low formed h = refl
none-itself s (node VariableDeclaration l (one t then fs)) low formed h = refl
none-itself s (node VariableDeclaration l (statements ts then fs)) low formed h = refl
none-itself s (node _ l fs) low formed h = refl

-- a test that no node passes
mutual
  never-node : (t : Tree) → any_node (λ k l fs. false) t ≡ false
  never-node (node k l fs) = never-fields fs

  never-fields : (fs : Fields) → any_in_fields (λ k l fs. false) fs ≡ false
  never-fields done = refl
  never-fields (f then fs) = or_from (any_in_field (λ k l fs. false) f) (any_in_fields (λ k l fs. false) fs) (never-field f) (never-fields fs)

  never-field : (f : Field) → any_in_field (λ k l fs. false) f ≡ false
  never-field missing = refl
  never-field (one t) = never-node t
  never-field (many ts) = never-trees ts
  never-field (statements ts) = never-trees ts

  never-trees : (ts : Trees) → any_in_trees (λ k l fs. false) ts ≡ false
  never-trees empty = refl
  never-trees (t before ts) = or_from (any_node (λ k l fs. false) t) (any_in_trees (λ k l fs. false) ts) (never-node t) (never-trees ts)

none-left : (on : Bool) (k : AstType) (i : ℕ) (n : Site) (t : Tree) → (on && is_construct is_lowerable_declaration t) ≡ false → Stands (profile_where on) k i n t → any_node (test_where on is_rest_declaration) t ≡ false
none-left false k i n t low s = never-node t
none-left true k i n (node j l fs) low s = or_from (is_rest_declaration j l fs) (any_in_fields is_rest_declaration fs) (none-itself s.sort (node j l fs) low s.formed s.strays) s.inside

pub left-alone : (on : Bool) (ctx : TraverseCtx TransformState) (t : Tree) → (on && is_construct is_lowerable_declaration t) ≡ false → Seen (λ v w. Lowered (profile_where on) (moment_of ctx) v (moment_of ctx) w) t t
left-alone on ctx t low names = record {
  steps = λ k i n s q x y. stays;
  none = λ k i n s. none-left on k i n (seen names t) (ap (λ b. on && b) (declaration-seen names t) ∙ low) s;
  clear = λ k i n s. s.strays;
}

pub paid-same : (ctx : TraverseCtx TransformState) (t : Tree) → PaidTree rest_owes (moment_of ctx) t (moment_of ctx) t
paid-same ctx t = record { lists = refl; around = refl; options = refl; counted = omega arith; lighter = omega arith; nodes = omega arith }

-- WHERE IT STANDS in the place of a node that was taken

module _ (old new : TraverseCtx TransformState) (t taken u : Tree) (same : taken ≡ t) (h : LowersDeclaration old new taken u) where
  pub paid-there : PaidTree rest_owes (moment_of old) t (moment_of new) u
  paid-there = subst (λ (v : Tree). PaidTree rest_owes (moment_of old) v (moment_of new) u) same (paid-declaration old new taken u h)

  pub alike-there : Alike is_declaration t u
  alike-there = subst (λ (v : Tree). Alike is_declaration v u) same (alike-declaration old new taken u h)

-- by the options
pub lowered-there : (o : EnvOptions) (is_on : Bool) → is_on ≡ is_some o.es2018.object_rest_spread → (old new : TraverseCtx TransformState) (t taken u : Tree) → taken ≡ t → LowersDeclaration old new taken u → (is_on && is_construct is_lowerable_declaration t) ≡ true → Seen (λ v w. Lowered (object_rest_profile o) (moment_of old) v (moment_of new) w) t u
lowered-there o is_on suits old new t taken u same h both =
    let parts = and_parts is_on (is_construct is_lowerable_declaration t) both in
    let on : is_some o.es2018.object_rest_spread ≡ true = sym suits ∙ parts.0 in
    let low : is_construct is_lowerable_declaration taken ≡ true = ap (is_construct is_lowerable_declaration) same ∙ parts.1 in
    subst (λ (b : Bool). Seen (λ v w. Lowered (profile_where b) (moment_of old) v (moment_of new) w) t u) (sym on)
    (subst (λ (r : Tree). Seen (λ v w. Lowered (profile_where true) (moment_of old) v (moment_of new) w) r u) same (lowered-declaration old new taken u h low))

pub left-there : (o : EnvOptions) (is_on : Bool) → is_on ≡ is_some o.es2018.object_rest_spread → (ctx : TraverseCtx TransformState) (t : Tree) → (is_on && is_construct is_lowerable_declaration t) ≡ false → Seen (λ v w. Lowered (object_rest_profile o) (moment_of ctx) v (moment_of ctx) w) t t
left-there o is_on suits ctx t low = left-alone (is_some o.es2018.object_rest_spread) ctx t (ap (λ b. b && is_construct is_lowerable_declaration t) (sym suits) ∙ low)
