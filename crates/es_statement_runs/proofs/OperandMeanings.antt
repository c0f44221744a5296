-- A tree over whatever operands means in the core what it means in statements, where what isn't core means what operands mean.
use Rattle.std.proofs.Common.{◌≡◌, ℕ, zero, suc, refl, List, [], ◌∷◌, ap, sym, subst, ◌∙◌}
use Rattle.std.specs.Prelude.{Bool, true, false, ◌&&◌, ◌||◌, Option, Some, None, if◌then◌else◌}
use Rattle.es_tree.specs.Words.{Text}
use Rattle.es_tree.specs.Names.{first_text as first}
use Rattle.es_tree.specs.Tree.{Tree, node, Label, Fields, done, ◌then◌, Field, missing, one, many, statements, Trees, empty, ◌before◌, kind_of}
use Rattle.es_tree.specs.declared.ast_type.AstType.{AstType}
use Rattle.es_tree.specs.declared.ast_type.AstType.TheVariants.{Identifier, ThisExpression, NullLiteral, BooleanLiteral, NumericLiteral, BigIntLiteral, StringLiteral, UnaryExpression, UpdateExpression, BinaryExpression, LogicalExpression, ConditionalExpression, AssignmentExpression, SequenceExpression, MemberExpression, CallExpression, NewExpression, ChainExpression, ParenthesizedExpression, RegExpLiteral, TemplateLiteral, TaggedTemplateExpression, ArrayExpression, SpreadElement, ObjectExpression, MetaProperty}
use Rattle.es_runs.specs.Alike.{Level, Need, SameWorld, bad_names, is_bad, needs, the_callee, the_target}
use Rattle.es_runs.specs.Core.{World, Form, Meaning, Part, begins_with_spread, call_of, flag, form_beside, gives_value, has_spread, is_other, is_pattern, meaning, meaning_of, meanings, own_parts, part, parts, value, with_form, nothing}
use Rattle.es_runs.specs.Core.Part.{single}
use Rattle.es_runs.specs.Machine.{Value, M, ◌>>=◌, return, stop}
use Rattle.es_runs.specs.Machine.Value.{text}
use Rattle.es_runs.specs.Machine.Stop.{unknown}
use Rattle.es_runs.specs.Runs.{none_hidden}
use Rattle.es_runs.proofs.Congruence.{like, plain_like}
use Rattle.es_runs.proofs.CoreWorlds.{assigns}
use Rattle.es_runs.proofs.Everywhere.{PartLike, PartsLike, kind_like}
use Rattle.es_runs.proofs.Everywhere.PartLike.{absent_like, single_like, several_like}
use Rattle.es_runs.proofs.Everywhere.PartsLike.{no_part, one_part}
use Rattle.es_runs.proofs.Lists.{AllLike, call_like}
use Rattle.es_runs.proofs.Lists.AllLike.{no_more, one_more}
use Rattle.es_runs.proofs.MathWords.{unhidden_word}
use Rattle.es_runs.proofs.Temporary.{plain_again}
use Rattle.es_statement_runs.specs.Calls.{assignment_by, core_call, first_spread, plain_callee, some_spread}
use Rattle.es_statement_runs.specs.Kinds.{sense, sense_of, senses, portion, portions, scope_by}
use Rattle.es_statement_runs.specs.Laws.{no_frame}
use Rattle.es_statement_runs.specs.Names.{is_word, own_names, own_use}
use Rattle.es_statement_runs.specs.Operands.{field_over, fields_over, is_expression_node, is_further_kind, is_settled, stands_over, trees_over}
use Rattle.es_statement_runs.specs.Places.{quiet_at}
use Rattle.es_statement_runs.specs.Senses.{More, Portion, Sense, core_part, core_parts, cores, tagged_template, template_meaning, text_alone, raw_texts, cooked_texts}
use Rattle.es_statement_runs.specs.Senses.More.{aims, stack_member, template_of}
use Rattle.es_statement_runs.specs.Senses.Portion.{alone, rows}
use Rattle.es_statement_runs.specs.Stacks.{Scope}
use Rattle.es_statement_runs.proofs.Everywhere.{both_left, both_right}
use Rattle.es_statement_runs.proofs.OperandSays.{assignment_core, begins_said, call_core, member_core, node_says, some_said}
use Rattle.es_statement_runs.proofs.RunLaws.{values_agree}
use Rattle.es_statement_runs.proofs.Through.{Mirrors}

-- WHAT GIVES A VALUE

data IsGiven : Meaning → Type 0 where
  is_given : (m : M Value) → IsGiven (gives_value m)

module _ (w : World) (ts : List (Option Text)) (fs : List Bool) (block : Scope) (i : World) (m : Meaning) (none : IsGiven m) where
  text_given : (o : Option Text) (raws cooked : Rattle.es_runs.specs.Machine.Values) (es : List Meaning) → IsGiven (template_meaning w o raws cooked es)
  text_given (Some t) raws cooked es = is_given (return (text t))
  text_given None raws cooked es = is_given _

  template_given : (ps : List Portion) → IsGiven (sense_of (quiet_at w [] []) TemplateLiteral ts fs block i m ps).core
  template_given (rows qs ∷ rows es ∷ []) = text_given (text_alone qs es) (raw_texts qs) (cooked_texts qs) (cores es)
  template_given _ = none

  tag_given : (e : Sense) (q : More) → IsGiven (tagged_template w e q)
  tag_given e (template_of raws cooked t es) = is_given _
  tag_given e _ = is_given (stop unknown)

  tagged_given : (ps : List Portion) → IsGiven (sense_of (quiet_at w [] []) TaggedTemplateExpression ts fs block i m ps).core
  tagged_given (alone tag ∷ alone q ∷ []) = tag_given tag q.more
  tagged_given _ = none

  spread_given : (ps : List Portion) → IsGiven (sense_of (quiet_at w [] []) SpreadElement ts fs block i m ps).core
  spread_given (alone e ∷ []) = is_given _
  spread_given _ = none

  object_given : (ps : List Portion) → IsGiven (sense_of (quiet_at w [] []) ObjectExpression ts fs block i m ps).core
  object_given (rows es ∷ []) = is_given _
  object_given _ = none

  either_given : (b : Bool) (e d : Sense) → IsGiven e.core → IsGiven d.core → IsGiven (if b then e else d).core
  either_given true e d h g = h
  either_given false e d h g = g

  assigned_given : (op : Text) (l : More) (e : Sense) → IsGiven (assignment_by w op l e m).core
  assigned_given op (aims t) e = either_given (is_word (Rattle.std.specs.Prelude.codes "=") op) _ _ (is_given _) none
  assigned_given op (stack_member y t) e = either_given (is_word (Rattle.std.specs.Prelude.codes "=") op) _ _ (is_given _) none
  assigned_given op _ e = none

further_given : (w : World) (k : AstType) (l : Label) (fs : Fields) → is_further_kind k ≡ true → is_other k fs ≡ true → IsGiven (sense (quiet_at w [] []) (node k l fs)).core
further_given w RegExpLiteral l fs h o = is_given _
further_given w TemplateLiteral l fs h o = template_given w l.texts l.flags (scope_by (own_names TemplateLiteral fs) (own_use TemplateLiteral fs)) w nothing (is_given (stop unknown)) (portions (λ i. quiet_at w [] []) fs)
further_given w TaggedTemplateExpression l fs h o = tagged_given w l.texts l.flags (scope_by (own_names TaggedTemplateExpression fs) (own_use TaggedTemplateExpression fs)) w nothing (is_given (stop unknown)) (portions (λ i. quiet_at w [] []) fs)
further_given w ArrayExpression l fs h o = is_given _
further_given w SpreadElement l fs h o = spread_given w l.texts l.flags (scope_by (own_names SpreadElement fs) (own_use SpreadElement fs)) w nothing (is_given (stop unknown)) (portions (λ i. quiet_at w [] []) fs)
further_given w ObjectExpression l fs h o = object_given w l.texts l.flags (scope_by (own_names ObjectExpression fs) (own_use ObjectExpression fs)) w nothing (is_given (stop unknown)) (portions (λ i. quiet_at w [] []) fs)
further_given w MetaProperty l fs h o = is_given _
further_given w AssignmentExpression l (one t then (one r then done)) h o = assigned_given w l.texts l.flags (scope_by [] false) w _ (is_given _) (first l.texts) _ _
further_given w AssignmentExpression l _ h o = is_given (stop unknown)
further_given w _ l fs h o = absurd (cc h)

-- under whatever labels and word
same_place : (w : World) (ls : List Text) (x : Text) (k : AstType) (l : Label) (fs : Fields) → is_further_kind k ≡ true → sense (quiet_at w ls x) (node k l fs) ≡ sense (quiet_at w [] []) (node k l fs)
same_place w ls x RegExpLiteral l fs h = refl
same_place w ls x TemplateLiteral l fs h = refl
same_place w ls x TaggedTemplateExpression l fs h = refl
same_place w ls x ArrayExpression l fs h = refl
same_place w ls x SpreadElement l fs h = refl
same_place w ls x ObjectExpression l fs h = refl
same_place w ls x MetaProperty l fs h = refl
same_place w ls x AssignmentExpression l fs h = refl
same_place w ls x _ l fs h = absurd (cc h)

-- THE WORLD OF THE CORE in which what isn't core gives what it gives here, where it passes
abbrev pub told : (Level → Text → Bool) → World → World
told bad w = record { scope = w.scope; this = w.this; counts_all = w.counts_all; other = λ t. if is_settled bad t then value w (sense (quiet_at w [] []) t).core else stop unknown; spreads = true }

pub there_same : (bad : Level → Text → Bool) (w : World) → SameWorld none_hidden w (told bad w)
there_same bad w = record { scope = λ x e. refl; this = refl; counts = refl }

pub back_same : (bad : Level → Text → Bool) (w : World) → SameWorld none_hidden (told bad w) w
back_same bad w = record { scope = λ x e. refl; this = refl; counts = refl }

module _ (bad : Level → Text → Bool) (w : World) where
  abbrev W : World
  W = told bad w

  abbrev there_w : SameWorld none_hidden w W
  there_w = there_same bad w

  abbrev back_w : SameWorld none_hidden W w
  back_w = back_same bad w

  pub record Mirror (a b : Meaning) : Type 0 where
    pub there : Mirrors w W a b
    pub back : Mirrors W w b a

  record MirrorParts (ps qs : List Part) : Type 0 where
    there : (c : ℕ → Need) → PartsLike no_frame w W c ps qs
    back : (c : ℕ → Need) → PartsLike no_frame W w c qs ps

  record MirrorPart (p q : Part) : Type 0 where
    there : (n : Need) → PartLike no_frame w W n p q
    back : (n : Need) → PartLike no_frame W w n q p

  record MirrorAll (es ds : List Meaning) : Type 0 where
    there : (n : Need) → AllLike no_frame w W n es ds
    back : (n : Need) → AllLike no_frame W w n ds es

  good_name : (k : AstType) (ts : List (Option Text)) → is_bad (bad_names none_hidden none_hidden) (the_target).level k ts ≡ false
  good_name Identifier ts = refl
  good_name _ ts = refl

  calm_mirror : (k : AstType) (ts : List (Option Text)) (flags : List Bool) {ps qs : List Part} → MirrorParts ps qs → Mirror (meaning_of w k ts flags ps) (meaning_of W k ts flags qs)
  calm_mirror k ts flags h = record {
    there = kind_like no_frame w W there_w the_target k ts flags (good_name k ts) (h.there (needs the_target k ts flags));
    back = kind_like no_frame W w back_w the_target k ts flags (good_name k ts) (h.back (needs the_target k ts flags));
  }

  part_mirror : {a b : Meaning} → Mirror a b → MirrorPart (single a) (single b)
  part_mirror {a} {b} h = record {
    there = λ n. single_like (λ e. unhidden_word none_hidden a.form refl) (like no_frame w W there_w n a b h.there.evaluation (h.there.form refl));
    back = λ n. single_like (λ e. unhidden_word none_hidden b.form refl) (like no_frame W w back_w n b a h.back.evaluation (h.back.form refl));
  }

  -- OPERANDS

  given_mirror : {e : Meaning} → IsGiven e → Mirror e (gives_value (value w e))
  given_mirror (is_given m) = record {
    there = plain_like no_frame w W there_w the_target m (value w (gives_value m)) (values_agree m (value w (gives_value m)) (λ s. plain_again w (m s)));
    back = plain_like no_frame W w back_w the_target (value w (gives_value m)) m (values_agree (value w (gives_value m)) m (λ s. sym (plain_again w (m s))));
  }

  other_mirror : (k : AstType) (l : Label) (fs : Fields) → is_other k fs ≡ true → is_settled bad (node k l fs) ≡ true → (ls : List Text) (x : Text) → Mirror (sense (quiet_at w ls x) (node k l fs)).core (meaning W (node k l fs))
  other_mirror k l fs o h ls x =
      let further : is_further_kind k ≡ true = both_left (is_further_kind k) _ h in
      let e : meaning W (node k l fs) ≡ gives_value (value w (sense (quiet_at w [] []) (node k l fs)).core) =
      ap (λ (b : Bool). if b then gives_value (if is_settled bad (node k l fs) then value w (sense (quiet_at w [] []) (node k l fs)).core else stop unknown) else meaning_of W k l.texts l.flags (own_parts W k fs (parts W fs))) o
      ∙ ap (λ (b : Bool). gives_value (if b then value w (sense (quiet_at w [] []) (node k l fs)).core else stop unknown)) h in
      subst (λ (b : Meaning). Mirror (sense (quiet_at w ls x) (node k l fs)).core b) (sym e)
      (subst (λ (a : Sense). Mirror a.core (gives_value (value w (sense (quiet_at w [] []) (node k l fs)).core))) (sym (same_place w ls x k l fs further)) (given_mirror (further_given w k l fs further o)))

  rest_mirror : (k : AstType) (l : Label) (fs : Fields) → is_expression_node k fs ≡ false → stands_over (is_settled bad) (node k l fs) ≡ true → (ls : List Text) (x : Text) → Mirror (sense (quiet_at w ls x) (node k l fs)).core (meaning W (node k l fs))
  rest_mirror k l fs e h ls x = at (is_other k fs) refl h
    where
      at : (b : Bool) → is_other k fs ≡ b → (if b then is_settled bad (node k l fs) else (is_expression_node k fs && fields_over (is_settled bad) fs)) ≡ true → Mirror (sense (quiet_at w ls x) (node k l fs)).core (meaning W (node k l fs))
      at true o g = other_mirror k l fs o g ls x
      at false o g = absurd (cc (e, both_left (is_expression_node k fs) _ g))

  -- ASSIGNMENTS

  assign_mirror : (l : Label) (t r : Tree) (ls : List Text) (x : Text) (b : Bool) → is_pattern (kind_of t) ≡ b → (if b then is_settled bad (node AssignmentExpression l (one t then (one r then done))) else fields_over (is_settled bad) (one t then (one r then done))) ≡ true →
      (fields_over (is_settled bad) (one t then (one r then done)) ≡ true → MirrorParts (core_parts (portions (λ i. quiet_at w [] []) (one t then (one r then done)))) (parts W (one t then (one r then done)))) →
      Mirror (sense (quiet_at w ls x) (node AssignmentExpression l (one t then (one r then done)))).core (meaning W (node AssignmentExpression l (one t then (one r then done))))
  assign_mirror l t r ls x true e h go = other_mirror AssignmentExpression l (one t then (one r then done)) e h ls x
  assign_mirror l t r ls x false e h go =
      let says_so = node_says w [] [] bad t (both_left (stands_over (is_settled bad) t) (stands_over (is_settled bad) r && true) h) in
      subst (λ (b : Meaning). Mirror (sense (quiet_at w ls x) (node AssignmentExpression l (one t then (one r then done)))).core b) (sym (assigns W l t (one r then done) e))
      (subst (λ (a : Meaning). Mirror a (meaning_of W AssignmentExpression l.texts l.flags (parts W (one t then (one r then done))))) (sym (assignment_core w ls x (kind_of t) (first l.texts) _ _ _ says_so e)) (calm_mirror AssignmentExpression l.texts l.flags (go h)))

  -- CALLS

  same_forms : (a b c d : Bool) → c ≡ a → d ≡ b → (f g : Form) → g ≡ f → form_beside c d g ≡ form_beside a b f
  same_forms a b c d e h f g k = rw (e, h, k) refl

  call_mirror : (optional : Bool) (f : Sense) (b : Meaning) (es : List Sense) (ts : Trees) → Mirror f.core b → MirrorAll (cores es) (meanings W ts) → first_spread es ≡ begins_with_spread ts → some_spread es ≡ has_spread ts →
      Mirror (core_call w optional f es) (call_of W optional (with_form (form_beside (true && begins_with_spread ts) (true && has_spread ts)) b) (meanings W ts))
  call_mirror optional f b es ts h g e d = record {
    there = call_like no_frame w W there_w the_target optional (plain_callee f es) (with_form (form_beside (begins_with_spread ts) (has_spread ts)) b) (cores es) (meanings W ts)
        (like no_frame w W there_w (the_callee optional) (plain_callee f es) (with_form (form_beside (begins_with_spread ts) (has_spread ts)) b) h.there.evaluation (same_forms _ _ _ _ (sym e) (sym d) f.core.form b.form (h.there.form refl))) (g.there _);
    back = call_like no_frame W w back_w the_target optional (with_form (form_beside (begins_with_spread ts) (has_spread ts)) b) (plain_callee f es) (meanings W ts) (cores es)
        (like no_frame W w back_w (the_callee optional) (with_form (form_beside (begins_with_spread ts) (has_spread ts)) b) (plain_callee f es) h.back.evaluation (same_forms _ _ _ _ e d b.form f.core.form (h.back.form refl))) (g.back _);
  }

  both_parts : {p q : Part} {ps qs : List Part} → MirrorPart p q → MirrorParts ps qs → MirrorParts (p ∷ ps) (q ∷ qs)
  both_parts h g = record { there = λ c. one_part (h.there (c zero)) (g.there (λ i. c (suc i))); back = λ c. one_part (h.back (c zero)) (g.back (λ i. c (suc i))) }

  both_all : {a b : Meaning} {es ds : List Meaning} → Mirror a b → MirrorAll es ds → MirrorAll (a ∷ es) (b ∷ ds)
  both_all {a} {b} h g = record {
    there = λ n. one_more (like no_frame w W there_w n a b h.there.evaluation (h.there.form refl)) (g.there n);
    back = λ n. one_more (like no_frame W w back_w n b a h.back.evaluation (h.back.form refl)) (g.back n);
  }

  -- EVERY NODE

  mutual
    pub tree_mirror : (t : Tree) → stands_over (is_settled bad) t ≡ true → (ls : List Text) (x : Text) → Mirror (sense (quiet_at w ls x) t).core (meaning W t)
    tree_mirror (node Identifier l fs) h ls x = calm_mirror Identifier l.texts l.flags (fields_mirror fs h)
    tree_mirror (node ThisExpression l fs) h ls x = calm_mirror ThisExpression l.texts l.flags (fields_mirror fs h)
    tree_mirror (node NullLiteral l fs) h ls x = calm_mirror NullLiteral l.texts l.flags (fields_mirror fs h)
    tree_mirror (node BooleanLiteral l fs) h ls x = calm_mirror BooleanLiteral l.texts l.flags (fields_mirror fs h)
    tree_mirror (node NumericLiteral l fs) h ls x = calm_mirror NumericLiteral l.texts l.flags (fields_mirror fs h)
    tree_mirror (node BigIntLiteral l fs) h ls x = calm_mirror BigIntLiteral l.texts l.flags (fields_mirror fs h)
    tree_mirror (node StringLiteral l fs) h ls x = calm_mirror StringLiteral l.texts l.flags (fields_mirror fs h)
    tree_mirror (node UnaryExpression l fs) h ls x = calm_mirror UnaryExpression l.texts l.flags (fields_mirror fs h)
    tree_mirror (node UpdateExpression l fs) h ls x = calm_mirror UpdateExpression l.texts l.flags (fields_mirror fs h)
    tree_mirror (node BinaryExpression l fs) h ls x = calm_mirror BinaryExpression l.texts l.flags (fields_mirror fs h)
    tree_mirror (node LogicalExpression l fs) h ls x = calm_mirror LogicalExpression l.texts l.flags (fields_mirror fs h)
    tree_mirror (node ConditionalExpression l fs) h ls x = calm_mirror ConditionalExpression l.texts l.flags (fields_mirror fs h)
    tree_mirror (node AssignmentExpression l (one t then (one r then done))) h ls x = assign_mirror l t r ls x (is_pattern (kind_of t)) refl h (λ g. fields_mirror (one t then (one r then done)) g)
    tree_mirror (node SequenceExpression l fs) h ls x = calm_mirror SequenceExpression l.texts l.flags (fields_mirror fs h)
    tree_mirror (node MemberExpression l fs) h ls x =
        subst (λ (a : Meaning). Mirror a (meaning_of W MemberExpression l.texts l.flags (parts W fs))) (sym (member_core w ls x l.texts l.flags (scope_by (own_names MemberExpression fs) (own_use MemberExpression fs)) w _ (portions (λ i. quiet_at w [] []) fs))) (calm_mirror MemberExpression l.texts l.flags (fields_mirror fs h))
    tree_mirror (node CallExpression l (one f then (many ts then done))) h ls x =
        let h_f : stands_over (is_settled bad) f ≡ true = both_left (stands_over (is_settled bad) f) (trees_over (is_settled bad) ts && true) h in
        let h_ts : trees_over (is_settled bad) ts ≡ true = both_left (trees_over (is_settled bad) ts) true (both_right (stands_over (is_settled bad) f) (trees_over (is_settled bad) ts && true) h) in
        subst (λ (a : Meaning). Mirror a (meaning W (node CallExpression l (one f then (many ts then done))))) (sym (call_core w ls x (kind_of f) (flag l.flags) (sense (quiet_at w [] []) f) (senses (quiet_at w [] []) ts) (node_says w [] [] bad f h_f)))
        (call_mirror (flag l.flags) (sense (quiet_at w [] []) f) (meaning W f) (senses (quiet_at w [] []) ts) ts (tree_mirror f h_f [] []) (trees_mirror ts h_ts) (begins_said w bad ts h_ts) (some_said w bad ts h_ts))
    tree_mirror (node NewExpression l fs) h ls x = calm_mirror NewExpression l.texts l.flags (fields_mirror fs h)
    tree_mirror (node ChainExpression l fs) h ls x = calm_mirror ChainExpression l.texts l.flags (fields_mirror fs h)
    tree_mirror (node ParenthesizedExpression l fs) h ls x = calm_mirror ParenthesizedExpression l.texts l.flags (fields_mirror fs h)
    tree_mirror (node k l fs) h ls x = rest_mirror k l fs refl h ls x

    fields_mirror : (fs : Fields) → fields_over (is_settled bad) fs ≡ true → MirrorParts (core_parts (portions (λ i. quiet_at w [] []) fs)) (parts W fs)
    fields_mirror done h = record { there = λ c. no_part; back = λ c. no_part }
    fields_mirror (f then fs) h = both_parts (field_mirror f (both_left (field_over (is_settled bad) f) (fields_over (is_settled bad) fs) h)) (fields_mirror fs (both_right (field_over (is_settled bad) f) (fields_over (is_settled bad) fs) h))

    field_mirror : (f : Field) → field_over (is_settled bad) f ≡ true → MirrorPart (core_part (portion (quiet_at w [] []) f)) (part W f)
    field_mirror missing h = record { there = λ n. absent_like; back = λ n. absent_like }
    field_mirror (one t) h = part_mirror (tree_mirror t h [] [])
    field_mirror (many ts) h = let g = trees_mirror ts h in record { there = λ n. several_like (g.there n); back = λ n. several_like (g.back n) }
    field_mirror (statements ts) h = let g = trees_mirror ts h in record { there = λ n. several_like (g.there n); back = λ n. several_like (g.back n) }

    trees_mirror : (ts : Trees) → trees_over (is_settled bad) ts ≡ true → MirrorAll (cores (senses (quiet_at w [] []) ts)) (meanings W ts)
    trees_mirror empty h = record { there = λ n. no_more; back = λ n. no_more }
    trees_mirror (t before ts) h = both_all (tree_mirror t (both_left (stands_over (is_settled bad) t) (trees_over (is_settled bad) ts) h) [] []) (trees_mirror ts (both_right (stands_over (is_settled bad) t) (trees_over (is_settled bad) ts) h))
