-- What rows ask of the operands of a node, from what is known of it: declarations and links stand where they belong, the operands that aren't core mean
-- something, no steady name is written, and made names stand nowhere.
use Rattle.std.proofs.Common.{◌≡◌, ℕ, zero, suc, refl, ap, List, [], ◌∷◌}
use Rattle.std.proofs.lemmas.Bool.{and_parts, and_from}
use Rattle.std.specs.Prelude.{Bool, true, false, not, ◌&&◌, ◌||◌, Option, if◌then◌else◌}
use Rattle.es_tree.specs.Names.{first_text as first_of, flag_at}
use Rattle.es_tree.specs.Parens.{without_parens}
use Rattle.es_tree.specs.Tree.{Tree, node, Label, Fields, done, ◌then◌, Field, missing, one, many, statements, Trees, empty, ◌before◌, kind_of}
use Rattle.es_tree.specs.Walks.{all_nodes, all_in_field, all_in_fields, all_in_trees}
use Rattle.es_tree.specs.Words.{Text}
use Rattle.es_tree.specs.declared.ast_type.AstType.{AstType}
use Rattle.es_tree.specs.declared.ast_type.AstType.TheVariants.{ArrayExpression, ArrayPattern, ArrayTarget, AssignmentExpression, AssignmentPattern, BigIntLiteral, BinaryExpression, BooleanLiteral, BreakStatement, CallExpression, CatchClause, ChainExpression, ConditionalExpression, ContinueStatement, ExportAllDeclaration, ExportNamedDeclaration, ExportSpecifier, ForInStatement, ForOfStatement, Identifier, ImportDeclaration, ImportDefaultSpecifier, ImportNamespaceSpecifier, ImportSpecifier, LabeledStatement, LogicalExpression, MemberExpression, MetaProperty, NewExpression, NullLiteral, NumericLiteral, ObjectExpression, ObjectPattern, ObjectProperty, ObjectTarget, ParenthesizedExpression, PatternProperty, PrivateIdentifier, Program, RegExpLiteral, RestElement, SequenceExpression, SpreadElement, StringLiteral, Super, SwitchStatement, TaggedTemplateExpression, TargetProperty, TargetRest, TargetWithDefault, TemplateLiteral, ThisExpression, TryStatement, UnaryExpression, UpdateExpression, VariableDeclaration, VariableDeclarator}
use Rattle.es_runs.specs.Alike.{Level, Need, bad_names, content_level, is_bad, key_need, needs, touches, touches_field, touches_fields, touches_nodes, unary_need}
use Rattle.es_runs.specs.Core.{UnaryClass, is_other, is_spread_kind, unary_class}
use Rattle.es_runs.specs.Core.UnaryClass.{delete_class, typeof_class, void_class}
use Rattle.es_runs.specs.Exponentiation.{is_classless, is_private_kind, is_raisable, is_super_kind}
use Rattle.es_runs.specs.Runs.{none_hidden}
use Rattle.es_runs.specs.Standing.{field_stands, fields_stand, is_formed, is_link, is_linked, is_placed, may_stand, trees_stand, undeclaring}
use Rattle.es_statement_runs.specs.Helpers.Supply.{no_helpers}
use Rattle.es_statement_runs.specs.Meant.{as_role, is_meant_at}
use Rattle.es_statement_runs.specs.Meant.Role.{a_value}
use Rattle.es_statement_runs.specs.Operands.{field_over, fields_over, is_expression_node, is_further_kind, is_settled, stands_over, trees_over}
use Rattle.es_statement_runs.specs.Names.{names_of_all, own_names}
use Rattle.es_statement_runs.specs.Places.{Take, all_good, avoids, avoids_field, avoids_fields, avoids_trees, key_taken, takes_of, value_taken}
use Rattle.es_statement_runs.specs.Programs.{is_statement_kind}
use Rattle.es_statement_runs.proofs.Everywhere.{both_left, both_right}
use Rattle.es_statement_steps.proofs.DeclaredNames.{from_children}
use Rattle.es_statement_steps.proofs.Stands.{child_stands, child_parts, is_closed, is_inner, is_item, is_link_kind, is_operand, is_assigned, is_spread, parts_fit, shaped, standing, stands}
use Rattle.es_statement_steps.proofs.Below.{Below, BelowField, BelowTrees, by_parts, field_passes, fields_pass, trees_pass}
use Rattle.es_statement_steps.proofs.StepMoves.{Fine}

-- DECLARATIONS AND LINKS

no-declarator : (k : AstType) → is_inner k ≡ true → (i : ℕ) → parts_fit k i VariableDeclarator ≡ true → is_placed k VariableDeclarator ≡ true
no-declarator Program e i p = absurd (cc e)
no-declarator VariableDeclaration e i p = absurd (cc e)
no-declarator ImportDeclaration e i p = absurd (cc e)
no-declarator ImportSpecifier e i p = absurd (cc e)
no-declarator ExportNamedDeclaration e i p = absurd (cc e)
no-declarator SwitchStatement e i p = absurd (cc e)
no-declarator ChainExpression e i p = absurd (cc p)
no-declarator TemplateLiteral e zero p = absurd (cc p)
no-declarator TemplateLiteral e (suc i) p = absurd (cc p)
no-declarator TaggedTemplateExpression e zero p = absurd (cc p)
no-declarator TaggedTemplateExpression e (suc i) p = absurd (cc p)
no-declarator AssignmentExpression e zero p = absurd (cc p)
no-declarator AssignmentExpression e (suc i) p = absurd (cc p)
no-declarator UpdateExpression e zero p = absurd (cc p)
no-declarator UpdateExpression e (suc i) p = absurd (cc p)
no-declarator ParenthesizedExpression e zero p = absurd (cc p)
no-declarator ParenthesizedExpression e (suc i) p = absurd (cc p)
no-declarator RestElement e zero p = absurd (cc p)
no-declarator RestElement e (suc i) p = absurd (cc p)
no-declarator TargetRest e zero p = absurd (cc p)
no-declarator TargetRest e (suc i) p = absurd (cc p)
no-declarator PatternProperty e zero p = absurd (cc p)
no-declarator PatternProperty e (suc zero) p = absurd (cc p)
no-declarator PatternProperty e (suc (suc i)) p = absurd (cc p)
no-declarator TargetProperty e zero p = absurd (cc p)
no-declarator TargetProperty e (suc zero) p = absurd (cc p)
no-declarator TargetProperty e (suc (suc i)) p = absurd (cc p)
no-declarator _ e i p = absurd (cc p)

placed-so : (k j : AstType) → is_inner k ≡ true → is_inner j ≡ true → (i : ℕ) → parts_fit k i j ≡ true → is_placed k j ≡ true
placed-so k Program e d i p = absurd (cc d)
placed-so k VariableDeclaration e d i p = absurd (cc d)
placed-so k VariableDeclarator e d i p = no-declarator k e i p
placed-so k _ e d i p = refl

links : (j : AstType) → is_link_kind j ≡ true → is_link j ≡ true
links MemberExpression p = refl
links CallExpression p = refl
links _ p = absurd (cc p)

linked-so : (k j : AstType) (i : ℕ) → parts_fit k i j ≡ true → is_linked k j ≡ true
linked-so ChainExpression j i p = links j p
linked-so _ j i p = refl

one-may : (k : AstType) (i : ℕ) (t : Tree) → is_inner k ≡ true → child_stands k i t ≡ true → (may_stand k (kind_of t) ≡ true) × (is_inner (kind_of t) ≡ true)
one-may k i t e h =
    let c = child_parts k i t h in
    (and_from (is_placed k (kind_of t)) (is_linked k (kind_of t)) (placed-so k (kind_of t) e (c.inner e) i c.part) (linked-so k (kind_of t) i c.part), c.inner e)

trees-may : (k : AstType) (i : ℕ) (ts : Trees) → is_inner k ≡ true → trees_pass (child_stands k i) ts ≡ true → trees_stand k ts ≡ true
trees-may k i empty e h = refl
trees-may k i (t before ts) e h = let d = and_parts (child_stands k i t) (trees_pass (child_stands k i) ts) h in and_from (may_stand k (kind_of t)) (trees_stand k ts) (one-may k i t e d.0).0 (trees-may k i ts e d.1)

field-may : (k : AstType) (i : ℕ) (f : Field) → is_inner k ≡ true → field_passes (child_stands k i) f ≡ true → field_stands k f ≡ true
field-may k i missing e h = refl
field-may k i (one t) e h = (one-may k i t e h).0
field-may k i (many ts) e h = trees-may k i ts e h
field-may k i (statements ts) e h = trees-may k i ts e h

fields-may : (k : AstType) (c : ℕ → ℕ) (fs : Fields) → is_inner k ≡ true → fields_pass (λ i. child_stands k (c i)) fs ≡ true → fields_stand k fs ≡ true
fields-may k c done e h = refl
fields-may k c (f then fs) e h =
    let d = and_parts (field_passes (child_stands k (c zero)) f) (fields_pass (λ i. child_stands k (c (suc i))) fs) h in
    and_from (field_stands k f) (fields_stand k fs) (field-may k (c zero) f e d.0) (fields-may k (λ i. c (suc i)) fs e d.1)

formed-so : (k : AstType) (fs : Fields) → is_inner k ≡ true → shaped k fs ≡ true → is_formed k fs ≡ true
formed-so UpdateExpression (one t then done) e h = refl
formed-so ParenthesizedExpression (one t then done) e h = refl
formed-so ChainExpression (one t then done) e h = refl
formed-so AssignmentExpression (one t then (one r then done)) e h = refl
formed-so UpdateExpression fs e h = absurd (cc h)
formed-so ParenthesizedExpression fs e h = absurd (cc h)
formed-so ChainExpression fs e h = absurd (cc h)
formed-so AssignmentExpression fs e h = absurd (cc h)
formed-so VariableDeclaration fs e h = absurd (cc e)
formed-so _ fs e h = refl

abbrev Undeclaring : Tree → Type 0
Undeclaring t = is_inner (kind_of t) ≡ true → Fine t → all_nodes undeclaring t ≡ true

undeclaring-all : (ts : Trees) → BelowTrees (λ t. all_nodes undeclaring t ≡ true) ts → all_in_trees undeclaring ts ≡ true
undeclaring-all empty h = refl
undeclaring-all (t before ts) h = and_from (all_nodes undeclaring t) (all_in_trees undeclaring ts) h.0 (undeclaring-all ts h.1)

undeclaring-at : (f : Field) → BelowField (λ t. all_nodes undeclaring t ≡ true) f → all_in_field undeclaring f ≡ true
undeclaring-at missing h = refl
undeclaring-at (one t) h = h
undeclaring-at (many ts) h = undeclaring-all ts h
undeclaring-at (statements ts) h = undeclaring-all ts h

undeclaring-in : (fs : Fields) → Below (λ i t. all_nodes undeclaring t ≡ true) fs → all_in_fields undeclaring fs ≡ true
undeclaring-in done h = refl
undeclaring-in (f then fs) h = and_from (all_in_field undeclaring f) (all_in_fields undeclaring fs) (undeclaring-at f h.0) (undeclaring-in fs h.1)

undeclaring-node : (k : AstType) (l : Label) (fs : Fields) → Below (λ i. Undeclaring) fs → Undeclaring (node k l fs)
undeclaring-node k l fs below e fine =
    let s = standing k l fs fine in
    and_from (undeclaring k l fs) (all_in_fields undeclaring fs)
    (and_from (fields_stand k fs) (is_formed k fs) (fields-may k (λ i. i) fs e s.children) (formed-so k fs e s.shape))
    (undeclaring-in fs (from_children k l fs (λ i. Undeclaring) (λ i t. all_nodes undeclaring t ≡ true) s below (λ i t p c. p (c.stands_there.inner e) c.nodes)))

-- in an expression declarations and links of chains stand where rows ask it
pub fine-undeclaring : (t : Tree) → is_inner (kind_of t) ≡ true → Fine t → all_nodes undeclaring t ≡ true
fine-undeclaring t = by_parts Undeclaring undeclaring-node t

-- NAMES THAT ARE BAD IN EITHER WAY

pub either-bad : (h f : Text → Bool) (n : Level) (x : Text) → bad_names h none_hidden n x ≡ false → bad_names none_hidden f n x ≡ false → bad_names h f n x ≡ false
either-bad h f Level.no_evaluation x a b = refl
either-bad h f Level.value_alone x a b = a
either-bad h f Level.an_operand_of_typeof x a b = a
either-bad h f Level.whole_reference x a b = a
either-bad h f Level.a_callee x a b = a
either-bad h f Level.a_target x a b = at (h x) (f x) a b
  where
    at : (c d : Bool) → (c || false) ≡ false → d ≡ false → (c || d) ≡ false
    at true d a b = absurd (cc a)
    at false d a b = b

not-both : (a b c : Bool) → (a ≡ false → b ≡ false → c ≡ false) → not a ≡ true → not b ≡ true → not c ≡ true
not-both a b true f h g = absurd (let no : true ≡ false = f (flipped a h) (flipped b g) in cc no)
  where
    flipped : (d : Bool) → not d ≡ true → d ≡ false
    flipped true e = absurd (cc e)
    flipped false e = refl
not-both a b false f h g = refl

module _ (one_way other_way both_ways : Level → Text → Bool) (either : (n : Level) (x : Text) → one_way n x ≡ false → other_way n x ≡ false → both_ways n x ≡ false) where
  either-here : (n : Level) (k : AstType) (ts : List (Option Text)) → not (is_bad one_way n k ts) ≡ true → not (is_bad other_way n k ts) ≡ true → not (is_bad both_ways n k ts) ≡ true
  either-here n Identifier ts h g = not-both (one_way n (first_of ts)) (other_way n (first_of ts)) (both_ways n (first_of ts)) (either n (first_of ts)) h g
  either-here n _ ts h g = refl

  either-names : (xs : List Text) → all_good one_way xs ≡ true → all_good other_way xs ≡ true → all_good both_ways xs ≡ true
  either-names [] h g = refl
  either-names (x ∷ xs) h g =
      let a = and_parts (not (one_way Level.a_target x)) (all_good one_way xs) h in
      let b = and_parts (not (other_way Level.a_target x)) (all_good other_way xs) g in
      and_from (not (both_ways Level.a_target x)) (all_good both_ways xs) (not-both (one_way Level.a_target x) (other_way Level.a_target x) (both_ways Level.a_target x) (either Level.a_target x) a.0 b.0) (either-names xs a.1 b.1)

  mutual
    pub avoids-both : (t : Take) (a : Tree) → avoids one_way t a ≡ true → avoids other_way t a ≡ true → avoids both_ways t a ≡ true
    avoids-both t (node k l fs) h g =
        let a = and_parts (not (is_bad one_way t.need.level k l.texts)) (all_good one_way (names_of_all (own_names k fs)) && avoids_fields one_way (takes_of t k l.texts l.flags) fs) h in
        let b = and_parts (not (is_bad other_way t.need.level k l.texts)) (all_good other_way (names_of_all (own_names k fs)) && avoids_fields other_way (takes_of t k l.texts l.flags) fs) g in
        let c = and_parts (all_good one_way (names_of_all (own_names k fs))) (avoids_fields one_way (takes_of t k l.texts l.flags) fs) a.1 in
        let d = and_parts (all_good other_way (names_of_all (own_names k fs))) (avoids_fields other_way (takes_of t k l.texts l.flags) fs) b.1 in
        and_from (not (is_bad both_ways t.need.level k l.texts)) (all_good both_ways (names_of_all (own_names k fs)) && avoids_fields both_ways (takes_of t k l.texts l.flags) fs) (either-here t.need.level k l.texts a.0 b.0)
        (and_from (all_good both_ways (names_of_all (own_names k fs))) (avoids_fields both_ways (takes_of t k l.texts l.flags) fs) (either-names (names_of_all (own_names k fs)) c.0 d.0) (fields-both (takes_of t k l.texts l.flags) fs c.1 d.1))

    fields-both : (c : ℕ → Take) (fs : Fields) → avoids_fields one_way c fs ≡ true → avoids_fields other_way c fs ≡ true → avoids_fields both_ways c fs ≡ true
    fields-both c done h g = refl
    fields-both c (f then fs) h g =
        let a = and_parts (avoids_field one_way (c zero) f) (avoids_fields one_way (λ i. c (suc i)) fs) h in
        let b = and_parts (avoids_field other_way (c zero) f) (avoids_fields other_way (λ i. c (suc i)) fs) g in
        and_from (avoids_field both_ways (c zero) f) (avoids_fields both_ways (λ i. c (suc i)) fs) (field-both (c zero) f a.0 b.0) (fields-both (λ i. c (suc i)) fs a.1 b.1)

    field-both : (t : Take) (f : Field) → avoids_field one_way t f ≡ true → avoids_field other_way t f ≡ true → avoids_field both_ways t f ≡ true
    field-both t missing h g = refl
    field-both t (one a) h g = avoids-both t a h g
    field-both t (many ts) h g = trees-both t ts h g
    field-both t (statements ts) h g = trees-both t ts h g

    trees-both : (t : Take) (ts : Trees) → avoids_trees one_way t ts ≡ true → avoids_trees other_way t ts ≡ true → avoids_trees both_ways t ts ≡ true
    trees-both t empty h g = refl
    trees-both t (a before ts) h g =
        let d = and_parts (avoids one_way t a) (avoids_trees one_way t ts) h in
        let e = and_parts (avoids other_way t a) (avoids_trees other_way t ts) g in
        and_from (avoids both_ways t a) (avoids_trees both_ways t ts) (avoids-both t a d.0 e.0) (trees-both t ts d.1 e.1)

-- OPERANDS THAT MEAN SOMETHING avoid what the node avoids

abbrev pub is_meant_operand : Tree → Bool
is_meant_operand t = is_further_kind (kind_of t) && is_meant_at no_helpers (as_role a_value false) [] [] t

module _ (bad : Level → Text → Bool) where
  -- a further operand avoids the same names whatever is taken of it
  further-avoids : (t : Take) (k : AstType) (l : Label) (fs : Fields) → is_further_kind k ≡ true → avoids bad t (node k l fs) ≡ true → avoids bad value_taken (node k l fs) ≡ true
  further-avoids t RegExpLiteral l fs e h = h
  further-avoids t TemplateLiteral l fs e h = h
  further-avoids t TaggedTemplateExpression l fs e h = h
  further-avoids t ArrayExpression l fs e h = h
  further-avoids t SpreadElement l fs e h = h
  further-avoids t ObjectExpression l fs e h = h
  further-avoids t MetaProperty l fs e h = h
  further-avoids t AssignmentExpression l fs e h = h
  further-avoids t _ l fs e h = absurd (cc e)

  mutual
    pub settled-over : (t : Take) (a : Tree) → stands_over is_meant_operand a ≡ true → avoids bad t a ≡ true → stands_over (is_settled bad) a ≡ true
    settled-over t (node k l fs) h g =
        let b = both_right (not (is_bad bad t.need.level k l.texts)) (all_good bad (names_of_all (own_names k fs)) && avoids_fields bad (takes_of t k l.texts l.flags) fs) g in
        at (is_other k fs) h (λ m. both m (further-avoids t k l fs (both_left (is_further_kind k) _ m) g)) (fields-settled (takes_of t k l.texts l.flags) fs) (both_right (all_good bad (names_of_all (own_names k fs))) (avoids_fields bad (takes_of t k l.texts l.flags) fs) b)
      where
        both : is_meant_operand (node k l fs) ≡ true → avoids bad value_taken (node k l fs) ≡ true → is_settled bad (node k l fs) ≡ true
        both m e =
            and_from (is_further_kind k) (avoids bad value_taken (node k l fs) && is_meant_at no_helpers (as_role a_value false) [] [] (node k l fs)) (both_left (is_further_kind k) _ m)
            (and_from (avoids bad value_taken (node k l fs)) (is_meant_at no_helpers (as_role a_value false) [] [] (node k l fs)) e (both_right (is_further_kind k) _ m))

        at : (o : Bool) → (if o then is_meant_operand (node k l fs) else (is_expression_node k fs && fields_over is_meant_operand fs)) ≡ true → (is_meant_operand (node k l fs) ≡ true → is_settled bad (node k l fs) ≡ true) →
            (fields_over is_meant_operand fs ≡ true → avoids_fields bad (takes_of t k l.texts l.flags) fs ≡ true → fields_over (is_settled bad) fs ≡ true) → avoids_fields bad (takes_of t k l.texts l.flags) fs ≡ true →
            (if o then is_settled bad (node k l fs) else (is_expression_node k fs && fields_over (is_settled bad) fs)) ≡ true
        at true m f r e = f m
        at false m f r e = and_from (is_expression_node k fs) (fields_over (is_settled bad) fs) (both_left (is_expression_node k fs) _ m) (r (both_right (is_expression_node k fs) _ m) e)

    fields-settled : (c : ℕ → Take) (fs : Fields) → fields_over is_meant_operand fs ≡ true → avoids_fields bad c fs ≡ true → fields_over (is_settled bad) fs ≡ true
    fields-settled c done h g = refl
    fields-settled c (f then fs) h g =
        and_from (field_over (is_settled bad) f) (fields_over (is_settled bad) fs) (field-settled (c zero) f (both_left (field_over is_meant_operand f) _ h) (both_left (avoids_field bad (c zero) f) _ g))
        (fields-settled (λ i. c (suc i)) fs (both_right (field_over is_meant_operand f) _ h) (both_right (avoids_field bad (c zero) f) _ g))

    field-settled : (t : Take) (f : Field) → field_over is_meant_operand f ≡ true → avoids_field bad t f ≡ true → field_over (is_settled bad) f ≡ true
    field-settled t missing h g = refl
    field-settled t (one a) h g = settled-over t a h g
    field-settled t (many ts) h g = trees-settled t ts h g
    field-settled t (statements ts) h g = trees-settled t ts h g

    trees-settled : (t : Take) (ts : Trees) → trees_over is_meant_operand ts ≡ true → avoids_trees bad t ts ≡ true → trees_over (is_settled bad) ts ≡ true
    trees-settled t empty h g = refl
    trees-settled t (a before ts) h g =
        and_from (stands_over (is_settled bad) a) (trees_over (is_settled bad) ts) (settled-over t a (both_left (stands_over is_meant_operand a) _ h) (both_left (avoids bad t a) _ g))
        (trees-settled t ts (both_right (stands_over is_meant_operand a) _ h) (both_right (avoids bad t a) _ g))

-- WHAT IS AVOIDED ISN'T TOUCHED

module _ (hidden frozen : Text → Bool) where
  abbrev bad : Level → Text → Bool
  bad = bad_names hidden frozen

  -- what is bad here is bad there
  abbrev Covers : Level → Level → Type 0
  Covers a b = (x : Text) → bad b x ≡ false → bad a x ≡ false

  by-target : Covers Level.value_alone Level.a_target
  by-target x e = at (hidden x) (frozen x) e
    where
      at : (c d : Bool) → (c || d) ≡ false → c ≡ false
      at true d e = absurd (cc e)
      at false d e = refl

  content-covers : (a b : Level) → Covers a b → Covers (content_level a) (content_level b)
  content-covers Level.an_operand_of_typeof Level.an_operand_of_typeof h = h
  content-covers Level.an_operand_of_typeof _ h = h
  content-covers _ Level.an_operand_of_typeof h = h
  content-covers _ _ h = h

  unary-covers : (f g : Bool) (c : UnaryClass) → Covers (unary_need f c).level (unary_need g c).level
  unary-covers f g typeof_class x e = e
  unary-covers f g delete_class x e = e
  unary-covers f g void_class x e = e
  unary-covers f g _ x e = e

  key-covers : (b : Bool) → Covers (key_need b).level (key_taken b).need.level
  key-covers true x e = e
  key-covers false x e = e

  -- a name, or what passes on what its place takes
  abbrev is_open : AstType → Bool
  is_open Identifier = true
  is_open ParenthesizedExpression = true
  is_open ChainExpression = true
  is_open k = false

  closed-not : (j : AstType) → is_closed j ≡ true → is_open j ≡ true → ⊥
  closed-not Identifier e d = cc e
  closed-not ParenthesizedExpression e d = cc e
  closed-not ChainExpression e d = cc e
  closed-not _ e d = cc d

  levels-so : (k : AstType) (m : Need) (t : Take) (ts : List (Option Text)) (bs : List Bool) (i : ℕ) (j : AstType) → is_inner k ≡ true → is_item k ≡ false → (is_open k ≡ true → Covers m.level t.need.level) → parts_fit k i j ≡ true → is_open j ≡ true →
      Covers (needs m k ts bs i).level (takes_of t k ts bs i).need.level
  levels-so AssignmentExpression m t ts bs zero j e s c p o x d = d
  levels-so AssignmentExpression m t ts bs (suc i) j e s c p o x d = d
  levels-so MemberExpression m t ts bs zero j e s c p o x d = d
  levels-so MemberExpression m t ts bs (suc i) j e s c p o x d = d
  levels-so CallExpression m t ts bs zero j e s c p o x d = d
  levels-so CallExpression m t ts bs (suc i) j e s c p o x d = d
  levels-so UnaryExpression m t ts bs i j e s c p o x d = unary-covers m.form t.need.form (unary_class (first_of ts)) x d
  levels-so ChainExpression m t ts bs i j e s c p o x d = content-covers m.level t.need.level (c refl) x d
  levels-so ParenthesizedExpression m t ts bs i j e s c p o x d = c refl x d
  levels-so TemplateLiteral m t ts bs zero j e s c p o x d = absurd (closed-not j p o)
  levels-so TemplateLiteral m t ts bs (suc i) j e s c p o x d = d
  levels-so TaggedTemplateExpression m t ts bs zero j e s c p o x d = d
  levels-so TaggedTemplateExpression m t ts bs (suc i) j e s c p o x d = absurd (closed-not j p o)
  levels-so ArrayExpression m t ts bs i j e s c p o x d = d
  levels-so ObjectExpression m t ts bs i j e s c p o x d = absurd (closed-not j p o)
  levels-so ObjectPattern m t ts bs i j e s c p o x d = absurd (closed-not j p o)
  levels-so ObjectTarget m t ts bs i j e s c p o x d = absurd (closed-not j p o)
  levels-so ObjectProperty m t ts bs zero j e s c p o x d = key-covers (flag_at 2 bs) x d
  levels-so ObjectProperty m t ts bs (suc i) j e s c p o x d = d
  levels-so PatternProperty m t ts bs zero j e s c p o x d = key-covers (flag_at 1 bs) x d
  levels-so PatternProperty m t ts bs (suc i) j e s c p o x d = by-target x d
  levels-so TargetProperty m t ts bs zero j e s c p o x d = key-covers (flag_at 1 bs) x d
  levels-so TargetProperty m t ts bs (suc i) j e s c p o x d = by-target x d
  levels-so ArrayPattern m t ts bs i j e s c p o x d = by-target x d
  levels-so ArrayTarget m t ts bs i j e s c p o x d = by-target x d
  levels-so AssignmentPattern m t ts bs zero j e s c p o x d = by-target x d
  levels-so AssignmentPattern m t ts bs (suc i) j e s c p o x d = d
  levels-so TargetWithDefault m t ts bs zero j e s c p o x d = by-target x d
  levels-so TargetWithDefault m t ts bs (suc i) j e s c p o x d = d
  levels-so RestElement m t ts bs i j e s c p o x d = by-target x d
  levels-so TargetRest m t ts bs i j e s c p o x d = by-target x d
  levels-so VariableDeclarator m t ts bs i j e s c p o x d = absurd (cc s)
  levels-so ExportSpecifier m t ts bs i j e s c p o x d = absurd (cc s)
  levels-so Program m t ts bs i j e s c p o x d = absurd (cc e)
  levels-so VariableDeclaration m t ts bs i j e s c p o x d = absurd (cc e)
  levels-so ForInStatement m t ts bs i j e s c p o x d = absurd (cc e)
  levels-so ForOfStatement m t ts bs i j e s c p o x d = absurd (cc e)
  levels-so BreakStatement m t ts bs i j e s c p o x d = absurd (cc e)
  levels-so ContinueStatement m t ts bs i j e s c p o x d = absurd (cc e)
  levels-so LabeledStatement m t ts bs i j e s c p o x d = absurd (cc e)
  levels-so SwitchStatement m t ts bs i j e s c p o x d = absurd (cc e)
  levels-so TryStatement m t ts bs i j e s c p o x d = absurd (cc e)
  levels-so CatchClause m t ts bs i j e s c p o x d = absurd (cc e)
  levels-so ImportDeclaration m t ts bs i j e s c p o x d = absurd (cc e)
  levels-so ImportSpecifier m t ts bs i j e s c p o x d = absurd (cc e)
  levels-so ImportDefaultSpecifier m t ts bs i j e s c p o x d = absurd (cc e)
  levels-so ImportNamespaceSpecifier m t ts bs i j e s c p o x d = absurd (cc e)
  levels-so ExportNamedDeclaration m t ts bs i j e s c p o x d = absurd (cc e)
  levels-so ExportAllDeclaration m t ts bs i j e s c p o x d = absurd (cc e)
  levels-so _ m t ts bs i j e s c p o x d = d

  -- the parts of a node
  child-so : (k : AstType) (i : ℕ) (t : Tree) → is_inner k ≡ true → child_stands k i t ≡ true → (is_inner (kind_of t) ≡ true) × (parts_fit k i (kind_of t) ≡ true)
  child-so k i t e h = let c = child_parts k i t h in (c.inner e, c.part)

  not-true : (b : Bool) → not b ≡ true → b ≡ false
  not-true true e = absurd (cc e)
  not-true false e = refl

  closed-item : (j : AstType) → is_closed j ≡ true → is_item j ≡ false
  closed-item VariableDeclarator e = absurd (cc e)
  closed-item ExportSpecifier e = absurd (cc e)
  closed-item _ e = refl

  operand-item : (j : AstType) → is_operand j ≡ true → is_item j ≡ false
  operand-item VariableDeclarator e = absurd (cc e)
  operand-item ExportSpecifier e = absurd (cc e)
  operand-item _ e = refl

  assigned-item : (j : AstType) → is_assigned j ≡ true → is_item j ≡ false
  assigned-item VariableDeclarator e = absurd (cc e)
  assigned-item ExportSpecifier e = absurd (cc e)
  assigned-item _ e = refl

  argument-item : (j : AstType) → (is_operand j || is_spread j) ≡ true → is_item j ≡ false
  argument-item VariableDeclarator e = absurd (cc e)
  argument-item ExportSpecifier e = absurd (cc e)
  argument-item _ e = refl

  link-item : (j : AstType) → is_link_kind j ≡ true → is_item j ≡ false
  link-item VariableDeclarator e = absurd (cc e)
  link-item ExportSpecifier e = absurd (cc e)
  link-item _ e = refl

  -- in an expression no item of a declaration or an export stands
  no-item : (k : AstType) (i : ℕ) (j : AstType) → is_inner k ≡ true → is_item k ≡ false → parts_fit k i j ≡ true → is_item j ≡ false
  no-item ChainExpression i j e s p = link-item j p
  no-item TemplateLiteral zero j e s p = closed-item j p
  no-item TemplateLiteral (suc i) j e s p = not-true (is_item j) p
  no-item TaggedTemplateExpression zero j e s p = not-true (is_item j) p
  no-item TaggedTemplateExpression (suc i) j e s p = closed-item j p
  no-item ObjectExpression i j e s p = closed-item j p
  no-item ObjectPattern i j e s p = closed-item j p
  no-item ObjectTarget i j e s p = closed-item j p
  no-item BinaryExpression i j e s p = operand-item j p
  no-item AssignmentExpression zero j e s p = assigned-item j p
  no-item Identifier i j e s p = operand-item j p
  no-item ThisExpression i j e s p = operand-item j p
  no-item NullLiteral i j e s p = operand-item j p
  no-item BooleanLiteral i j e s p = operand-item j p
  no-item NumericLiteral i j e s p = operand-item j p
  no-item BigIntLiteral i j e s p = operand-item j p
  no-item StringLiteral i j e s p = operand-item j p
  no-item UnaryExpression i j e s p = operand-item j p
  no-item UpdateExpression zero j e s p = operand-item j p
  no-item UpdateExpression (suc i) j e s p = absurd (cc p)
  no-item LogicalExpression i j e s p = operand-item j p
  no-item ConditionalExpression i j e s p = operand-item j p
  no-item SequenceExpression i j e s p = operand-item j p
  no-item MemberExpression i j e s p = operand-item j p
  no-item ParenthesizedExpression zero j e s p = operand-item j p
  no-item ParenthesizedExpression (suc i) j e s p = absurd (cc p)
  no-item CallExpression i j e s p = argument-item j p
  no-item NewExpression i j e s p = argument-item j p
  no-item AssignmentExpression (suc i) j e s p = operand-item j p
  no-item Program i j e s p = absurd (cc e)
  no-item VariableDeclaration i j e s p = absurd (cc e)
  no-item SwitchStatement i j e s p = absurd (cc e)
  no-item ImportDeclaration i j e s p = absurd (cc e)
  no-item ImportSpecifier i j e s p = absurd (cc e)
  no-item ImportDefaultSpecifier i j e s p = absurd (cc e)
  no-item ImportNamespaceSpecifier i j e s p = absurd (cc e)
  no-item ExportNamedDeclaration i j e s p = absurd (cc e)
  no-item RestElement zero j e s p = not-true (is_item j) p
  no-item RestElement (suc i) j e s p = absurd (cc p)
  no-item TargetRest zero j e s p = not-true (is_item j) p
  no-item TargetRest (suc i) j e s p = absurd (cc p)
  no-item PatternProperty zero j e s p = not-true (is_item j) p
  no-item PatternProperty (suc zero) j e s p = not-true (is_item j) p
  no-item PatternProperty (suc (suc i)) j e s p = absurd (cc p)
  no-item TargetProperty zero j e s p = not-true (is_item j) p
  no-item TargetProperty (suc zero) j e s p = not-true (is_item j) p
  no-item TargetProperty (suc (suc i)) j e s p = absurd (cc p)
  no-item _ i j e s p = not-true (is_item j) p

  neither : (a b : Bool) → a ≡ false → b ≡ false → (a || b) ≡ false
  neither true b h g = absurd (cc h)
  neither false b h g = g

  name-untouched : (k : AstType) (m n : Level) (ts : List (Option Text)) → (is_open k ≡ true → Covers m n) → not (is_bad bad n k ts) ≡ true → is_bad bad m k ts ≡ false
  name-untouched Identifier m n ts c h = c refl (first_of ts) (not-true (bad n (first_of ts)) h)
  name-untouched _ m n ts c h = refl

  -- what stands in a field of it
  record Part (m : Need) (t : Take) (u : Tree) : Type 0 where
    inner : is_inner (kind_of u) ≡ true
    item : is_item (kind_of u) ≡ false
    covers : is_open (kind_of u) ≡ true → Covers m.level t.need.level

  mutual
    pub avoided-untouched : (m : Need) (t : Take) (a : Tree) → is_inner (kind_of a) ≡ true → is_item (kind_of a) ≡ false → Fine a → (is_open (kind_of a) ≡ true → Covers m.level t.need.level) → avoids bad t a ≡ true → touches bad m a ≡ false
    avoided-untouched m t (node k l fs) e s fine c h =
        let st = standing k l fs fine in
        neither (is_bad bad m.level k l.texts) (touches_fields bad (needs m k l.texts l.flags) fs)
        (name-untouched k m.level t.need.level l.texts c (both_left (not (is_bad bad t.need.level k l.texts)) _ h))
        (fields-untouched (needs m k l.texts l.flags) (takes_of t k l.texts l.flags) fs (λ i. child_stands k i) (λ i u d. let g = child-so k i u e d in record { inner = g.0; item = no-item k i (kind_of u) e s g.1; covers = λ o. levels-so k m t l.texts l.flags i (kind_of u) e s c g.1 o }) st.children st.below
        (both_right (all_good bad (names_of_all (own_names k fs))) (avoids_fields bad (takes_of t k l.texts l.flags) fs) (both_right (not (is_bad bad t.need.level k l.texts)) _ h)))

    fields-untouched : (c : ℕ → Need) (d : ℕ → Take) (fs : Fields) (p : ℕ → Tree → Bool) → ((i : ℕ) (u : Tree) → p i u ≡ true → Part (c i) (d i) u) → fields_pass p fs ≡ true → all_in_fields stands fs ≡ true → avoids_fields bad d fs ≡ true → touches_fields bad c fs ≡ false
    fields-untouched c d done p f g fine h = refl
    fields-untouched c d (f then fs) p k g fine h =
        neither (touches_field bad (c zero) f) (touches_fields bad (λ i. c (suc i)) fs)
        (field-untouched (c zero) (d zero) f (p zero) (k zero) (and_parts (field_passes (p zero) f) _ g).0 (both_left (all_in_field stands f) _ fine) (both_left (avoids_field bad (d zero) f) _ h))
        (fields-untouched (λ i. c (suc i)) (λ i. d (suc i)) fs (λ i. p (suc i)) (λ i. k (suc i)) (and_parts (field_passes (p zero) f) _ g).1 (both_right (all_in_field stands f) _ fine) (both_right (avoids_field bad (d zero) f) _ h))

    field-untouched : (m : Need) (t : Take) (f : Field) (p : Tree → Bool) → ((u : Tree) → p u ≡ true → Part m t u) → field_passes p f ≡ true → all_in_field stands f ≡ true → avoids_field bad t f ≡ true → touches_field bad m f ≡ false
    field-untouched m t missing p k g fine h = refl
    field-untouched m t (one a) p k g fine h = let q = k a g in avoided-untouched m t a q.inner q.item fine q.covers h
    field-untouched m t (many ts) p k g fine h = trees-untouched m t ts p k g fine h
    field-untouched m t (statements ts) p k g fine h = trees-untouched m t ts p k g fine h

    trees-untouched : (m : Need) (t : Take) (ts : Trees) (p : Tree → Bool) → ((u : Tree) → p u ≡ true → Part m t u) → trees_pass p ts ≡ true → all_in_trees stands ts ≡ true → avoids_trees bad t ts ≡ true → touches_nodes bad m ts ≡ false
    trees-untouched m t empty p k g fine h = refl
    trees-untouched m t (a before ts) p k g fine h =
        let q = k a (and_parts (p a) (trees_pass p ts) g).0 in
        neither (touches bad m a) (touches_nodes bad m ts) (avoided-untouched m t a q.inner q.item (both_left (all_nodes stands a) _ fine) q.covers (both_left (avoids bad t a) _ h))
        (trees-untouched m t ts p k (and_parts (p a) (trees_pass p ts) g).1 (both_right (all_nodes stands a) _ fine) (both_right (avoids bad t a) _ h))

-- SIDES OF OPERATORS are no spreads, and no target is a member of `super` or private

no-spread : (j : AstType) → is_operand j ≡ true → is_spread_kind j ≡ false
no-spread SpreadElement e = absurd (cc e)
no-spread _ e = refl

no-super : (j : AstType) → is_statement_kind j ≡ true → is_super_kind j ≡ false
no-super Super e = absurd (cc e)
no-super _ e = refl

no-private : (j : AstType) → is_statement_kind j ≡ true → is_private_kind j ≡ false
no-private PrivateIdentifier e = absurd (cc e)
no-private _ e = refl

fine-kind : (t : Tree) → Fine t → is_statement_kind (kind_of t) ≡ true
fine-kind (node k l fs) fine = (standing k l fs fine).class

fine-first : (t : Tree) (fs : Fields) → all_in_fields stands (one t then fs) ≡ true → Fine t
fine-first t fs h = both_left (all_nodes stands t) (all_in_fields stands fs) h

neither-so : (a b : Bool) → a ≡ false → b ≡ false → not (a || b) ≡ true
neither-so true b h g = absurd (cc h)
neither-so false true h g = absurd (cc g)
neither-so false false h g = refl

fine-classless : (t : Tree) → Fine t → is_classless (without_parens t) ≡ true
fine-classless (node ParenthesizedExpression l (one t then fs)) fine = fine-classless t (fine-first t fs (standing ParenthesizedExpression l (one t then fs) fine).below)
fine-classless (node ParenthesizedExpression l done) fine = refl
fine-classless (node ParenthesizedExpression l (missing then fs)) fine = refl
fine-classless (node ParenthesizedExpression l (many ts then fs)) fine = refl
fine-classless (node ParenthesizedExpression l (statements ts then fs)) fine = refl
fine-classless (node MemberExpression l (one o then (one k then done))) fine =
    let below = (standing MemberExpression l (one o then (one k then done)) fine).below in
    neither-so (is_super_kind (kind_of o)) (is_private_kind (kind_of k)) (no-super (kind_of o) (fine-kind o (fine-first o (one k then done) below)))
    (no-private (kind_of k) (fine-kind k (fine-first k done (both_right (all_nodes stands o) (all_in_fields stands (one k then done)) below))))
fine-classless (node MemberExpression l done) fine = refl
fine-classless (node MemberExpression l (missing then fs)) fine = refl
fine-classless (node MemberExpression l (many ts then fs)) fine = refl
fine-classless (node MemberExpression l (statements ts then fs)) fine = refl
fine-classless (node MemberExpression l (one o then done)) fine = refl
fine-classless (node MemberExpression l (one o then (missing then fs))) fine = refl
fine-classless (node MemberExpression l (one o then (many ts then fs))) fine = refl
fine-classless (node MemberExpression l (one o then (statements ts then fs))) fine = refl
fine-classless (node MemberExpression l (one o then (one k then (f then fs)))) fine = refl
fine-classless (node _ l fs) fine = refl

pub binary-raisable : (m : Label) (l r : Tree) → Fine (node BinaryExpression m (one l then (one r then done))) → is_raisable (node BinaryExpression m (one l then (one r then done))) ≡ true
binary-raisable m l r fine =
    let children = (standing BinaryExpression m (one l then (one r then done)) fine).children in
    let first = child_parts BinaryExpression 0 l (both_left (child_stands BinaryExpression 0 l) _ children) in
    let second = child_parts BinaryExpression 1 r (both_left (child_stands BinaryExpression 1 r) true (both_right (child_stands BinaryExpression 0 l) _ children)) in
    neither-so (is_spread_kind (kind_of l)) (is_spread_kind (kind_of r)) (no-spread (kind_of l) first.part) (no-spread (kind_of r) second.part)

pub assignment-raisable : (m : Label) (t r : Tree) → Fine (node AssignmentExpression m (one t then (one r then done))) → is_raisable (node AssignmentExpression m (one t then (one r then done))) ≡ true
assignment-raisable m t r fine =
    let st = standing AssignmentExpression m (one t then (one r then done)) fine in
    let second = child_parts AssignmentExpression 1 r (both_left (child_stands AssignmentExpression 1 r) true (both_right (child_stands AssignmentExpression 0 t) _ st.children)) in
    and_from (is_classless (without_parens t)) (not (is_spread_kind (kind_of r))) (fine-classless t (fine-first t (one r then done) st.below)) (ap not (no-spread (kind_of r) second.part))
