-- Logical assignment is lawful.
use Rattle.std.proofs.Common.{arith, ◌≡◌, refl, sym, subst, ◌∙◌, List, [], ◌∷◌, ◌++◌}
use Rattle.std.specs.Prelude.{Bool, true, false, Some, codes}
use Rattle.es_tree.specs.Names.{first_text}
use Rattle.es_tree.specs.Parens.{without_parens}
use Rattle.es_tree.specs.Tree.{Tree, node, Label, done, ◌then◌, one}
use Rattle.es_tree.specs.Words.{Text}
use Rattle.es_tree.specs.declared.ast_type.AstType.TheVariants.{AssignmentExpression, Identifier, MemberExpression}
use Rattle.es_semantic.specs.RolesOf.{reads, target_of}
use Rattle.es_semantic.specs.declared.place.Role.{Role}
use Rattle.es_semantic.specs.declared.place.Role.TheVariants.{Nothing}
use Rattle.es_runs.specs.LogicalAssignment.{assigned_where}
use Rattle.es_runs.specs.Rules.{assign_node, member_node}
use Rattle.es_resolution.specs.Declarations.{Bound, declared}
use Rattle.es_resolution.specs.Resolved.{Place, no_name}
use Rattle.es_resolution.specs.Single.{scopes_with}
use Rattle.es_steps.specs.Duplication.{is_alone}
use Rattle.es_steps.specs.Nodes.{made}
use Rattle.es_steps.specs.Rules.{with_made}
use Rattle.es_steps.specs.LogicalAssignment.{LogicalAssignmentRule}
use Rattle.es_steps.specs.LogicalAssignment.LogicalAssignmentRule.{to_name, to_static_member, to_computed_member}
use Rattle.es_steps.specs.Steps.{Whole, Site}
use Rattle.es_steps.proofs.Duplicates.{Duplicates, duplicated, duplicated-taken, key-role, counts-member, silent-member}
use Rattle.es_steps.proofs.Kept.{Known}
use Rattle.es_steps.proofs.Made.{Source, standing, Makes, Fits, key_role, part, name-again, fits-bare, fits-logical, fits-assignment, fits-member, object-fits, key-fits, Counts, counts-self, counts-bare, Silent, silent-name, plain-assignment, plain-logical}
use Rattle.es_steps.proofs.Temporaries.{AreTaken, IsSeen, knowing, all-seen, each-left, each-right, taken-append}
use Rattle.es_steps.proofs.Written.{nil-right}

-- the role of the target of the source, and of the one that is made
abbrev pub old_target : Label → Role
old_target m = target_of (first_text m.texts)

abbrev pub new_target : Role
new_target = target_of (first_text (Some (codes "=") ∷ []))

-- the target in its parentheses
pub counts-target : (r r' : Role) (t x u : Tree) → is_alone t ≡ true → without_parens t ≡ x → Counts r r' x u → Counts r r' t u
counts-target r r' t x u alone e c = record { declares = λ v. c.declares v ∙ (λ i. declared v r (sym e i)) ∙ (counts-bare r t alone).declares v; scopes = λ s. c.scopes s ∙ (λ i. scopes_with s no_name r (sym e i)) ∙ (counts-bare r t alone).scopes s }

counts-assigned : (r : Role) (m : Label) (op : Text) (t e begin again : Tree) → Counts (old_target m) reads t begin → Silent new_target again → Counts r r (node AssignmentExpression m (one t then one e then done)) (assigned_where m op begin again e)
counts-assigned r m op t e begin again c z = record { declares = λ v. at v; scopes = λ s. let x = c.scopes s in let y = z.scopes s in omega arith }
  where
    at : (v : Bool) → declared v r (assigned_where m op begin again e) ≡ declared v r (node AssignmentExpression m (one t then one e then done))
    at true = simp (c.declares true, z.declares true, nil-right)
    at false = simp (c.declares false, z.declares false, nil-right)

-- what a target becomes that is read, and then written
record Assigned (n : Known) (b : Place) (source : Source) (m : Label) (t begin again : Tree) : Type 0 where
  begin_fits : Fits n b source reads begin
  again_fits : Fits n b source new_target again
  counts : Counts (old_target m) reads t begin
  silent : Silent new_target again

module _ (n : Site) (w : Whole) (m : Label) (op : Text) (t e : Tree) where
  abbrev whole_node : Tree
  whole_node = node AssignmentExpression m (one t then one e then done)

  abbrev source : Source
  source = standing n whole_node

  assigned-makes : (bs : List Bound) (taken : AreTaken w.in_use w.free_symbol bs) (begin again : Tree) → Assigned (knowing w bs taken) n.names source m t begin again → Makes n w bs whole_node (assigned_where m op begin again e)
  assigned-makes bs taken begin again h =
      let k = knowing w bs taken in
      record {
        taken = taken;
        old = plain-assignment m _;
        made = plain-logical _ _;
        counts = counts-assigned n.role m op t e begin again h.counts h.silent;
        fits = fits-logical k n.names source n.role _ begin (assign_node again e) (λ g. tt) h.begin_fits (fits-assignment k n.names source reads _ again e (λ g. tt) h.again_fits (part k n.names source reads e (λ g. g.1.1.0) (λ p d. d.2.1.0) (λ q d. d.1.1.0)));
      }

  target-fits : (bs : List Bound) (taken : AreTaken w.in_use w.free_symbol bs) (x : Tree) → without_parens t ≡ x → Fits (knowing w bs taken) n.names source (old_target m) x
  target-fits bs taken x d = subst (λ (z : Tree). Fits (knowing w bs taken) n.names source (old_target m) z) d (fits-bare (knowing w bs taken) n.names source (old_target m) t (part (knowing w bs taken) n.names source (old_target m) t (λ g. g.1.0) (λ p d. d.2.0) (λ q d. d.1.0)))

  -- a member, whose key stands between brackets or not
  abbrev member_label : Bool → Label
  member_label computed = made [] (computed ∷ false ∷ [])

  member-makes : (bs : List Bound) (taken : AreTaken w.in_use w.free_symbol bs) (computed : Bool) (l : Label) (o o1 o2 p p1 p2 : Tree) → is_alone t ≡ true → without_parens t ≡ node MemberExpression l (one o then one p then done) → Duplicates (knowing w bs taken) n.names source o o1 o2 → Fits (knowing w bs taken) n.names source (key_role (member_label computed)) p1 → Fits (knowing w bs taken) n.names source (key_role (member_label computed)) p2 → Counts (key_role l) (key_role (member_label computed)) p p1 → Silent (key_role (member_label computed)) p2 → Makes n w bs whole_node (assigned_where m op (member_node computed o1 p1) (member_node computed o2 p2) e)
  member-makes bs taken computed l o o1 o2 p p1 p2 alone d D f1 f2 c z =
      let k = knowing w bs taken in
      assigned-makes bs taken (member_node computed o1 p1) (member_node computed o2 p2) (record {
        begin_fits = fits-member k n.names source reads (member_label computed) o1 p1 (λ g. tt) D.first f1;
        again_fits = fits-member k n.names source new_target (member_label computed) o2 p2 (λ g. tt) D.again f2;
        counts = counts-target (old_target m) reads t _ _ alone d (counts-member (old_target m) reads l (member_label computed) o o1 p p1 D.counts c);
        silent = silent-member new_target (member_label computed) o2 p2 D.silent z;
      })

pub assigning-makes : (n : Site) (w : Whole) (bs : List Bound) (t u : Tree) → LogicalAssignmentRule n w bs t u → Makes n w bs t u
assigning-makes n w bs t u (to_name {m = m} {l = l} {t = t0} {r = e} {op = op} texts known alone d) =
    let k = knowing w [] tt in
    let f = target-fits n w m op t0 e [] tt (node Identifier l done) d in
    assigned-makes n w m op t0 e [] tt (node Identifier l done) (node Identifier l done) (record {
      begin_fits = name-again k n.names _ _ _ l done refl f;
      again_fits = name-again k n.names _ _ _ l done refl f;
      counts = counts-target (old_target m) reads t0 (node Identifier l done) (node Identifier l done) alone d (record { declares = λ v. refl; scopes = λ s. refl });
      silent = silent-name _ l done refl;
    })
assigning-makes n w bs t u (to_static_member {m = m} {l = l} {k = p} {t = t0} {r = e} {o = o} {o1 = o1} {o2 = o2} {op = op} {xs = xs} texts known alone d flags twice) =
    let taken = duplicated-taken w xs o o1 o2 twice in
    let k = knowing w xs taken in
    let f = target-fits n w m op t0 e xs taken _ d in
    let name = node Identifier p done in
    let key = subst (λ (r : Role). Fits k n.names (standing n t) r name) (key-role l false false flags) (key-fits k n.names _ _ l o name f) in
    member-makes n w m op t0 e xs taken false l o o1 o2 name name name alone d (duplicated k n.names _ w xs o o1 o2 twice (all-seen k) (object-fits k n.names _ _ l o name f)) key key (subst (λ (r : Role). Counts r Nothing name name) (sym (key-role l false false flags)) (counts-self Nothing name)) (record { declares = λ v. refl; scopes = λ s. refl })
assigning-makes n w bs t u (to_computed_member {m = m} {l = l} {t = t0} {r = e} {o = o} {o1 = o1} {o2 = o2} {k = p} {k1 = p1} {k2 = p2} {op = op} {xs = xs} {ys = ys} texts known alone d flags twice key_twice) =
    let taken = taken-append w.in_use w.free_symbol xs ys (duplicated-taken w xs o o1 o2 twice) (duplicated-taken (with_made xs w) ys p p1 p2 key_twice) in
    let k = knowing w (xs ++ ys) taken in
    let f = target-fits n w m op t0 e (xs ++ ys) taken _ d in
    let key = subst (λ (r : Role). Fits k n.names (standing n t) r p) (key-role l true false flags) (key-fits k n.names _ _ l o p f) in
    let D = duplicated k n.names (standing n t) (with_made xs w) ys p p1 p2 key_twice (each-right (IsSeen k) xs ys (all-seen k)) key in
    member-makes n w m op t0 e (xs ++ ys) taken true l o o1 o2 p p1 p2 alone d (duplicated k n.names (standing n t) w xs o o1 o2 twice (each-left (IsSeen k) xs ys (all-seen k)) (object-fits k n.names (standing n t) _ l o p f)) D.first D.again (subst (λ (r : Role). Counts r reads p p1) (sym (key-role l true false flags)) D.counts) D.silent
