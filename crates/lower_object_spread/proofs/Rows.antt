-- A literal that was opened, and the calls that are made of it, as a row.
use Rattle.std.proofs.Common.{◌≡◌, ◌∙◌, ℕ, List, [], ◌∷◌, ◌++◌, refl, sym, ap, subst, arith, Option, Some, None, codes}
use Rattle.std.proofs.lemmas.Bool.{and_parts}
use Rattle.std.specs.Prelude.{Bool, true, false, ◌||◌, is_some}
use Rattle.es_tree.specs.Constructs.{any_kind, is_object_spread, is_spread}
use Rattle.es_tree.specs.RestTargets.{is_rest_target}
use Rattle.es_tree.specs.Tree.{Tree, node, Label, Fields, done, ◌then◌, many, one, Trees, kind_of, tree_size, trees}
use Rattle.es_tree.specs.Words.{Text}
use Rattle.es_tree.specs.declared.ast_type.AstType.{AstType}
use Rattle.es_tree.specs.declared.ast_type.AstType.TheVariants.{AssignmentExpression, BinaryExpression, CallExpression, ClassDeclaration, ClassExpression, Identifier, LogicalExpression, MemberExpression, ObjectExpression}
use Rattle.es_tree.specs.declared.options.EnvOptions.{EnvOptions}
use Rattle.es_scope.specs.declared.context.TraverseCtx.{TraverseCtx}
use Rattle.es_resolution.specs.Seen.{seen, seen_among, seen_in, seen_marks}
use Rattle.es_runs.specs.Weights.{own_weight}
use Rattle.es_steps.specs.Nodes.{placed}
use Rattle.es_steps.specs.ObjectSpread.{Copies, SpreadRule, copied, last_copied}
use Rattle.es_steps.specs.ObjectSpread.Copies.{copies, keeps, no_more}
use Rattle.es_steps.specs.ObjectSpread.SpreadRule.{spreads}
use Rattle.es_steps.specs.Steps.{Site}
use Rattle.es_valid_steps.proofs.FurtherForms.{or-later, or-none}
use Rattle.es_changes.specs.Moments.{whole_at}
use Rattle.es_conditions.specs.CoreConditions.{is_free}
use Rattle.es_conditions.proofs.Rows.{past-free, wrapped-free, wrapped-of}
use Rattle.es_traverse.specs.Laws.{Seen, is_construct}
use Rattle.es_traverse.specs.Loads.{load}
use Rattle.lower_temporaries.specs.Takings.{moment_of}
use Rattle.lower_temporaries.specs.declared.state.TransformState.{TransformState}
use Rattle.lower_temporaries.proofs.Copied.{copied-unbound}
use Rattle.lower_temporaries.proofs.SeenLaws.{any_kind-seen, load-seen, size-seen}
use Rattle.lower_temporaries.proofs.Takings.{takes-none}
use Rattle.lower_object_spread.specs.Copying.{CopiesAll, Lowers, helper}
use Rattle.lower_object_spread.specs.Literals.{has_properties, is_lowerable_literal}
use Rattle.lower_object_spread.proofs.Literals.{properties-declare}

-- WITH THE SPAN of another node

marks-placed : (names : ℕ → Text → Option ℕ) (m : Label) (k : AstType) (l : Label) (fs : Fields) → seen_marks names k (record l { start = m.start; stop = m.stop }) fs ≡ seen_marks names k l fs
marks-placed names m Identifier l fs = refl
marks-placed names m ClassDeclaration l fs = refl
marks-placed names m ClassExpression l fs = refl
marks-placed names m _ l fs = refl

placed-seen : (names : ℕ → Text → Option ℕ) (m : Label) (t : Tree) → seen names (placed m t) ≡ placed m (seen names t)
placed-seen names m (node k l fs) = λ i. node k (record l { id = 0; start = m.start; stop = m.stop; marks = marks-placed names m k l fs i }) (seen_in names fs)

placed-size : (m : Label) (t : Tree) → tree_size (placed m t) ≡ tree_size t
placed-size m (node k l fs) = refl

own-placed : (m : Label) (k : AstType) (l : Label) (fs : Fields) → own_weight k (record l { start = m.start; stop = m.stop }) fs ≡ own_weight k l fs
own-placed m LogicalExpression l fs = refl
own-placed m BinaryExpression l fs = refl
own-placed m AssignmentExpression l fs = refl
own-placed m MemberExpression l fs = refl
own-placed m CallExpression l fs = refl
own-placed m _ l fs = refl

placed-load : (m : Label) (t : Tree) → load (placed m t) ≡ load t
placed-load m (node k l fs) = let own = own-placed m k l fs in omega (arith, own)

placed-kind : (m : Label) (t : Tree) → kind_of (placed m t) ≡ kind_of t
placed-kind m (node k l fs) = refl

placed-alike : (m : Label) (l : Label) (t : Tree) → l.start ≡ m.start → l.stop ≡ m.stop → placed m t ≡ placed l t
placed-alike m l (node k j fs) e d = λ i. node k (record j { start = sym e i; stop = sym d i }) fs

-- THE KIND of what is made, once there is a spread

abbrev IsCall : Option Tree → Type 0
IsCall None = Unit {0}
IsCall (Some t) = kind_of t ≡ CallExpression

copied-kind : (f : Tree) (c : Option Tree) (ps : List Tree) (e : Tree) → kind_of (copied f c ps e) ≡ CallExpression
copied-kind f None ps e = refl
copied-kind f (Some c) [] e = refl
copied-kind f (Some c) (p ∷ ps) e = refl

last-kind : (f : Tree) (c : Option Tree) (ps : List Tree) → is_some c ≡ true → IsCall c → kind_of (last_copied f c ps) ≡ CallExpression
last-kind f None ps e h = absurd (cc e)
last-kind f (Some c) [] e h = h
last-kind f (Some c) (p ∷ ps) e h = refl

copies-kind : (f : Tree) (c : Option Tree) (ps : List Tree) (ts : Trees) (u : Tree) → Copies f c ps ts u → (is_some c || any_kind is_spread ts) ≡ true → IsCall c → kind_of u ≡ CallExpression
copies-kind f c ps ts u no_more e h = last-kind f c ps (or-none (is_some c) e) h
copies-kind f c ps ts u (copies {e = x} {ts = rest} r) e h = copies-kind f (Some (copied f c ps x)) [] rest u r refl (copied-kind f c ps x)
copies-kind f c ps ts u (keeps {t = t} {ts = rest} other r) e h = copies-kind f c (ps ++ t ∷ []) rest u r (or-later (is_some c) (is_spread (kind_of t)) (any_kind is_spread rest) other e) h

-- `babelHelpers`

copies-unbound : (o : EnvOptions) (n : Site) (t : Tree) → is_some o.es2018.object_rest_spread ≡ true → is_construct is_object_spread t ≡ true → is_free o n t ≡ true → n.names.scope (codes "babelHelpers") ≡ None
copies-unbound o n (node k l fs) on spread free =
    let t = node k l fs in
    copied-unbound o n k l fs on (ap (λ b. b || is_rest_target (one t)) spread) (wrapped-of o n t (wrapped-free o n t free)).known.placed

-- THE ROW

abbrev literal : Label → List Tree → Tree
literal l ps = node ObjectExpression l (many (trees ps) then done)

literal-lowers : (old new : TraverseCtx TransformState) (names : ℕ → Text → Option ℕ) (l : Label) (ps : List Tree) (c : Tree) → any_kind is_spread (trees ps) ≡ true → is_some old.options.es2018.object_rest_spread ≡ true → CopiesAll old new ps c → Lowers old new (seen names (literal l ps)) (seen names (placed l c))
literal-lowers old new names l ps c some on all =
    let m : Label = record l { id = 0; marks = [] } in
    let spread : any_kind is_spread (seen_among names (trees ps)) ≡ true = any_kind-seen names is_spread (trees ps) ∙ some in
    let made : placed m (seen names c) ≡ seen names (placed l c) = placed-alike m l (seen names c) refl refl ∙ sym (placed-seen names l c) in
    let way = all.copies names in
    record {
      replaces = record {
        made = [];
        ids = all.ids;
        takes = takes-none all.reads;
        row = λ n fits free. (
          subst (λ u. SpreadRule n (whole_at (moment_of old)) [] (seen names (literal l ps)) u) made
              (spreads (copies-unbound old.options n (seen names (literal l ps)) on spread free) (fits.stands.asked (codes "babelHelpers") refl) spread (properties-declare fits.sort m (seen_among names (trees ps)) fits.formed) way),
          past-free old.options n (seen names (literal l ps)) free,
        );
        nodes = omega (arith, all.nodes, size-seen names (placed l c), placed-size l c, size-seen names (literal l ps));
        lighter = omega (arith, all.lighter, load-seen names (placed l c), placed-load l c, load-seen names (literal l ps));
      };
      made = ap kind_of (sym made) ∙ (placed-kind m (seen names c) ∙ copies-kind helper None [] (seen_among names (trees ps)) (seen names c) way spread tt);
    }

pub lowered-literal : (old new : TraverseCtx TransformState) (l : Label) (ps : List Tree) (t c u : Tree) → literal l ps ≡ t → is_construct is_lowerable_literal t ≡ true → is_some old.options.es2018.object_rest_spread ≡ true → CopiesAll old new ps c → u ≡ placed l c → Seen (Lowers old new) t u
lowered-literal old new l ps t c u opened lowerable on all put names =
    let h : is_construct is_lowerable_literal (literal l ps) ≡ true = subst (λ v. is_construct is_lowerable_literal v ≡ true) (sym opened) lowerable in
    let some = (and_parts (any_kind is_spread (trees ps)) (has_properties (many (trees ps) then done)) h).0 in
    subst (λ v. Lowers old new (seen names v) (seen names u)) opened (subst (λ v. Lowers old new (seen names (literal l ps)) (seen names v)) (sym put) (literal-lowers old new names l ps c some on all))
