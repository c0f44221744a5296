-- Where helpers are called by names that stand for them, a tree means what it means where they are members of `babelHelpers`.
use Rattle.std.proofs.Common.{◌≡◌, ◌∙◌, ℕ, zero, suc, refl, sym, ap, List, [], ◌∷◌, ◌++◌, subst}
use Rattle.std.proofs.lemmas.Bool.{and_parts}
use Rattle.std.proofs.lemmas.Slice.Eq.{bytes_eq-Decides}
use Rattle.std.specs.Prelude.{◌&&◌, ◌||◌, Bool, true, false, not, Option, Some, None, bytes_eq, codes, find, if◌then◌else◌}
use Rattle.std.specs.List.{list_all}
use Rattle.es_tree.specs.Helpers.{helper_text}
use Rattle.es_tree.specs.Names.{first_text, flag_at}
use Rattle.es_tree.specs.Scopes.{Declared}
use Rattle.es_tree.specs.Tree.{Tree, node, Label, Fields, done, ◌then◌, Field, missing, one, many, statements, Trees, empty, ◌before◌}
use Rattle.es_tree.specs.Words.{Text}
use Rattle.es_tree.specs.declared.ast_type.AstType.{AstType}
use Rattle.es_tree.specs.declared.ast_type.AstType.TheVariants.{CallExpression, Identifier, MemberExpression}
use Rattle.es_tree.specs.declared.helper.Helper.{Helper}
use Rattle.es_resolution.specs.Declarations.{Bound}
use Rattle.es_resolution.proofs.AllForms.{All, AllAmong, AllBy, AllIn}
use Rattle.es_runs.specs.Alike.{Frame, Level, SameWorld, bad_names, is_bad, the_callee, the_value}
use Rattle.es_runs.specs.Alike.Level.{a_target}
use Rattle.es_runs.specs.Core.{Binding, Meaning, World, call_of, flag, flag_after, is_free, of_one_many}
use Rattle.es_runs.specs.Core.Binding.{free, silent}
use Rattle.es_runs.specs.Core.Form.{word}
use Rattle.es_runs.specs.Core.Silent.{helper_name}
use Rattle.es_runs.specs.Runs.{none_hidden, only}
use Rattle.es_runs.proofs.Congruence.{nothing_like}
use Rattle.es_steps.specs.Nodes.{identifier}
use Rattle.es_runs.proofs.Everywhere.{kind_like}
use Rattle.es_runs.proofs.Everywhere.PartsLike.{no_part}
use Rattle.es_statement_runs.specs.Alike.{Told, Quiet, StackSeen, SenseLike, SensesLike, PortionLike, PortionsLike}
use Rattle.es_statement_runs.specs.Alike.MoreLike.{same_helper, same_nothing}
use Rattle.es_statement_runs.specs.Alike.PortionLike.{rows_like}
use Rattle.es_statement_runs.specs.Alike.PortionsLike.{no_portion, one_portion}
use Rattle.es_statement_runs.specs.Calls.{call_sense, member_by}
use Rattle.es_statement_runs.specs.Helpers.{is_helper_text}
use Rattle.es_statement_runs.specs.Helpers.Supply.{by_global}
use Rattle.es_statement_runs.specs.Kinds.{found, inside, kind_in, label_in, portion, portions, scope_by, sense, sense_of, senses, from_portions}
use Rattle.es_statement_runs.specs.Laws.{any_cells}
use Rattle.es_statement_runs.specs.Names.{names_of_all, own_names, own_use}
use Rattle.es_statement_runs.specs.Places.{HelpersSeen, Take, all_good, avoids, avoids_field, avoids_fields, avoids_trees, placed_at, take, takes_of}
use Rattle.es_statement_runs.specs.Senses.{Place, Portion, Sense, core_parts, only_more, said_in}
use Rattle.es_statement_runs.specs.Senses.More.{helper_call}
use Rattle.es_statement_runs.specs.Senses.Portion.{alone}
use Rattle.es_statement_runs.specs.Stacks.{Scope}
use Rattle.es_statement_runs.proofs.Everywhere.{PlaceLike, inside_like, said_alike, visible_good}
use Rattle.es_statement_runs.proofs.Everywhere.PlaceLike.{place_like}
use Rattle.es_statement_runs.proofs.KindsAlike.{inner, nothing_sense, kind_close}
use Rattle.es_statement_runs.proofs.SensesAlike.{call_sense_like}
use Rattle.es_import_runs.proofs.CalledNames.{Plainly, label_now, own_now, use_now}
use Rattle.es_import_runs.proofs.ToldPlaces.{HeardAll, alone_heard, gap_heard, heard_parts, heard_portions, heard_sense, is_told, name_unsaid, rows_heard, sense_heard, senses_untold, untold, heard}
use Rattle.es_import_runs.proofs.ToldPlaces.HeardAll.{heard_and, heard_none}
use Rattle.es_helper_calls.specs.HelperCalls.{calling, calling_among, calling_by, calling_here, calling_in, handed_on, helper_of, helpers_among, helpers_in, helpers_in_field, helpers_in_fields, is_called, is_dotted, made_helpers, named_helper, own_helper, used_helper}
use Rattle.es_helper_calls.proofs.Callees.{IsUse, here-called, use-shape}
use Rattle.es_helper_calls.proofs.Callees.IsUse.{a_call, a_pass}

abbrev pub helpers_ : Text
helpers_ = codes "babelHelpers"

-- A CALL OF A HELPER, or one that hands it on, by kind, label and fields
pub data HelperCall (h : Helper) : AstType → Label → Fields → Type 0 where
  helper_called : {l j i m : Label} {gs hs fs : Fields} → flag_at 0 l.flags ≡ false → flag_at 0 j.flags ≡ false → flag_at 1 j.flags ≡ false → first_text i.texts ≡ helpers_ → named_helper (first_text m.texts) ≡ Some h →
      HelperCall h CallExpression l (one (node MemberExpression j (one (node Identifier i gs) then (one (node Identifier m hs) then done))) then fs)
  helper_passed : {l : Label} {f t : Tree} {fs : Fields} → handed_on (helper_of t) ≡ Some h → HelperCall h CallExpression l (one f then (many (t before empty) then fs))

neither : (a b : Bool) → (not a && not b) ≡ true → (a ≡ false) × (b ≡ false)
neither false false h = (refl, refl)
neither true b h = absurd (cc h)
neither false true h = absurd (cc h)

pub both_some : {A : Type 0} (b d : Bool) (x : Option A) (y : A) → (if b && d then x else None) ≡ Some y → (b ≡ true) × ((d ≡ true) × (x ≡ Some y))
both_some true true x y e = (refl, (refl, e))
both_some true false x y e = absurd (cc e)
both_some false d x y e = absurd (cc e)

of_object : (h : Helper) (l j m : Label) (hs fs : Fields) (o : Tree) → flag_at 0 l.flags ≡ false → (flag_at 0 j.flags ≡ false) × (flag_at 1 j.flags ≡ false) → is_called helpers_ o ≡ true → named_helper (first_text m.texts) ≡ Some h →
    HelperCall h CallExpression l (one (node MemberExpression j (one o then (one (node Identifier m hs) then done))) then fs)
of_object h l j m hs fs (node Identifier i gs) mark flags e n = helper_called mark flags.0 flags.1 ((bytes_eq-Decides (first_text i.texts) helpers_).0 e) n
of_object h l j m hs fs (node _ i gs) mark flags e n = absurd (cc e)

of_callee : (h : Helper) (l : Label) (f : Tree) (fs : Fields) → flag_at 0 l.flags ≡ false → helper_of f ≡ Some h → HelperCall h CallExpression l (one f then fs)
of_callee h l (node MemberExpression j (one o then (one (node Identifier m hs) then done))) fs mark e =
    let d = both_some (is_dotted j) (is_called helpers_ o) (named_helper (first_text m.texts)) h e in
    of_object h l j m hs fs o mark (neither (flag_at 0 j.flags) (flag_at 1 j.flags) d.0) d.1.0 d.1.1
of_callee h l _ fs mark e = absurd (cc e)

pub helper_shape : (k : AstType) (l : Label) (fs : Fields) (h : Helper) → used_helper k l fs ≡ Some h → HelperCall h k l fs
helper_shape k l fs h e = at (use-shape k l fs h e)
  where
    at : {k : AstType} {l : Label} {fs : Fields} → IsUse h k l fs → HelperCall h k l fs
    at (a_call {l = l} {f = f} {fs = fs} mark e) = of_callee h l f fs mark e
    at (a_pass mark other e) = helper_passed e

-- the member stands for its helper
pub member_helper : (h : Helper) (j i m : Label) (gs hs : Fields) → flag_at 0 j.flags ≡ false → flag_at 1 j.flags ≡ false → first_text i.texts ≡ helpers_ → named_helper (first_text m.texts) ≡ Some h → helper_of (node MemberExpression j (one (node Identifier i gs) then (one (node Identifier m hs) then done))) ≡ Some h
member_helper h j i m gs hs a b object name = rw (a, b, object) name

-- the flags as the machine reads them
pub first_flag : (bs : List Bool) → flag_at 0 bs ≡ flag bs
first_flag [] = refl
first_flag (b ∷ bs) = refl

second_flag : (bs : List Bool) → flag_at 1 bs ≡ flag_after bs
second_flag [] = refl
second_flag (b ∷ bs) = first_flag bs

-- the helper of this name
known_text : (x : Text) (g k : Helper) → is_helper_text (helper_text g) ≡ true → bytes_eq (helper_text g) x ≡ true → Some g ≡ Some k → (helper_text k ≡ x) × (is_helper_text x ≡ true)
known_text x g k r e n =
    let i : helper_text g ≡ x = (bytes_eq-Decides (helper_text g) x).0 e in
    let j : g ≡ k = cc in
    (ap helper_text (sym j) ∙ i, ap is_helper_text (sym i) ∙ r)

-- each of these helpers is one of the runtime's
abbrev are_known : List Helper → Bool
are_known gs = list_all (λ g. is_helper_text (helper_text g)) gs

found_text : (x : Text) (k : Helper) (gs : List Helper) → are_known gs ≡ true → find (λ g. bytes_eq (helper_text g) x) gs ≡ Some k → (helper_text k ≡ x) × (is_helper_text x ≡ true)
found_text x k [] r n = absurd (cc n)
found_text x k (g ∷ gs) r n = let d = and_parts (is_helper_text (helper_text g)) (are_known gs) r in at (bytes_eq (helper_text g) x) refl d.0 (found_text x k gs d.1) n
  where
    at : (b : Bool) → bytes_eq (helper_text g) x ≡ b → is_helper_text (helper_text g) ≡ true → (find (λ g. bytes_eq (helper_text g) x) gs ≡ Some k → (helper_text k ≡ x) × (is_helper_text x ≡ true)) → (if b then Some g else find (λ g. bytes_eq (helper_text g) x) gs) ≡ Some k → (helper_text k ≡ x) × (is_helper_text x ≡ true)
    at true e d rest n = known_text x g k d e n
    at false e d rest n = rest n

pub text_named : (x : Text) (k : Helper) → named_helper x ≡ Some k → (helper_text k ≡ x) × (is_helper_text x ≡ true)
text_named x k n = found_text x k made_helpers refl n

-- WHAT A MEMBER SAYS

-- `babelHelpers.NAME` says that it is this helper, where nothing declares `babelHelpers`
member_says : (w : World) (y : Text) (m : Meaning) → is_helper_text y ≡ true → is_free (w.scope helpers_) ≡ true → (member_by (placed_at by_global w [] []) (said_in by_global (w.scope helpers_)) (word helpers_) (word y) m).more ≡ helper_call y
member_says w y m known k = at (w.scope helpers_) k
  where
    at : (b : Binding) → is_free b ≡ true → (member_by (placed_at by_global w [] []) (said_in by_global b) (word helpers_) (word y) m).more ≡ helper_call y
    at free h = rw (known, k) refl
    at _ h = absurd (cc h)

pub callee_says : (w : World) (j i m : Label) (gs hs : Fields) → flag_at 0 j.flags ≡ false → flag_at 1 j.flags ≡ false → first_text i.texts ≡ helpers_ → is_helper_text (first_text m.texts) ≡ true → is_free (w.scope helpers_) ≡ true →
    (sense (placed_at by_global w [] []) (node MemberExpression j (one (node Identifier i gs) then (one (node Identifier m hs) then done)))).more ≡ helper_call (first_text m.texts)
callee_says w j i m gs hs a b e known unbound = rw (sym (first_flag j.flags) ∙ a, sym (second_flag j.flags) ∙ b, e) (member_says w (first_text m.texts) _ known unbound)

not_so : (a : Bool) → not a ≡ true → a ≡ false
not_so true h = absurd (cc h)
not_so false h = refl

-- NAMES THAT NOTHING DECLARES

not_both : (a b : Bool) → (not a && b) ≡ true → (a ≡ false) × (b ≡ true)
not_both true b h = absurd (cc h)
not_both false b h = (refl, h)

module _ (bad : Level → Text → Bool) (z : Text) (forbidden : bad a_target z ≡ true) where
  undeclared : (ds : List Declared) → all_good bad (names_of_all ds) ≡ true → kind_in ds z ≡ None
  undeclared [] h = refl
  undeclared (d ∷ ds) h = let k = not_both (bad a_target d.name) (all_good bad (names_of_all ds)) h in at (bytes_eq z d.name) refl k.0 (undeclared ds k.1)
    where
      at : (b : Bool) → bytes_eq z d.name ≡ b → bad a_target d.name ≡ false → kind_in ds z ≡ None → (if b then Some d.kind else kind_in ds z) ≡ None
      at true e i n = let j : bad a_target z ≡ false = ap (bad a_target) ((bytes_eq-Decides z d.name).0 e) ∙ i in absurd (cc)
      at false e i n = n

  pub bound_outside : (ds : List Declared) → all_good bad (names_of_all ds) ≡ true → (w : World) → (inner w ds).scope z ≡ w.scope z
  bound_outside ds h w = ap (λ (k : Option Text). found k z w.scope z) (undeclared ds h)

-- a name that is only told
abbrev is_told_name : Level → AstType → Bool
is_told_name n Identifier = is_told n
is_told_name n k = false

told_level : (n : Level) → is_told n ≡ true → n ≡ Level.no_evaluation
told_level Level.no_evaluation e = refl
told_level _ e = absurd (cc e)

module _ (hidden : Text → Bool) (known : Helper → Bool) (c : Helper → Bound) (hides : (h : Helper) → known h ≡ true → hidden (c h).name ≡ true) where
  abbrev pub F : Frame
  F = any_cells hidden

  -- hidden names are bad where they are evaluated, and `babelHelpers` as a target
  abbrev pub bad : Level → Text → Bool
  bad = bad_names hidden (only helpers_)

  -- and hidden ones where they are told, too
  abbrev strict : Level → Text → Bool
  strict Level.no_evaluation x = hidden x
  strict n x = bad_names hidden (only helpers_) n x

  abbrev pub named : Helper → Tree
  named h = identifier (c h)

  -- each of these helpers is known
  abbrev pub AllNamed : List Helper → Type 0
  AllNamed [] = Unit {0}
  AllNamed (h ∷ hs) = (known h ≡ true) × AllNamed hs

  -- `babelHelpers` is unbound, and in the second world the names of known helpers stand for them
  pub record CallsKnown (w v : World) : Type 0 where
    pub global : is_free (w.scope helpers_) ≡ true
    pub names : (h : Helper) → known h ≡ true → v.scope (c h).name ≡ silent (helper_name (helper_text h))

  left_or : (a b : Bool) → (a || b) ≡ false → a ≡ false
  left_or true b h = absurd (cc h)
  left_or false b h = refl

  pub below : (n : Level) (x : Text) → strict n x ≡ false → bad_names hidden none_hidden n x ≡ false
  below Level.no_evaluation x h = refl
  below a_target x h = rw (left_or (hidden x) (only helpers_ x) h) refl
  below _ x h = h

  visible_name : (n : Level) (x : Text) → strict n x ≡ false → hidden x ≡ false
  visible_name a_target x h = left_or (hidden x) (only helpers_ x) h
  visible_name _ x h = h

  -- targets are the same
  strict_good : (xs : List Text) → all_good bad xs ≡ true → all_good strict xs ≡ true
  strict_good xs h = same xs ∙ h
    where
      same : (xs : List Text) → all_good strict xs ≡ all_good bad xs
      same [] = refl
      same (x ∷ xs) = ap (λ (b : Bool). not (bad a_target x) && b) (same xs)

  -- a name that is evaluated, and what is none
  strict_here : (n : Level) (k : AstType) (ts : List (Option Text)) → is_told_name n k ≡ false → is_bad bad n k ts ≡ false → is_bad strict n k ts ≡ false
  strict_here Level.no_evaluation Identifier ts e h = absurd (cc e)
  strict_here a_target Identifier ts e h = h
  strict_here _ Identifier ts e h = h
  strict_here n _ ts e h = refl

  hidden_bad : (x : Text) → hidden x ≡ true → strict a_target x ≡ true
  hidden_bad x h = rw h refl

  global_bad : (b : Bool) → (b || true) ≡ true
  global_bad true = refl
  global_bad false = refl

  pub kept : (ds : List Declared) → all_good strict (names_of_all ds) ≡ true → (w v : World) → CallsKnown w v → CallsKnown (inner w ds) (inner v ds)
  kept ds good w v k = record {
    global = ap is_free (bound_outside strict helpers_ (global_bad (hidden helpers_)) ds good w) ∙ k.global;
    names = λ h e. bound_outside strict (c h).name (hidden_bad (c h).name (hides h e)) ds good v ∙ k.names h e;
  }

  pub all_left : (gs hs : List Helper) → AllNamed (gs ++ hs) → AllNamed gs × AllNamed hs
  all_left [] hs h = (tt, h)
  all_left (g ∷ gs) hs h = let d = all_left gs hs h.1 in ((h.0, d.0), d.1)

  -- no known helper is handed on
  module _ (quiet : Quiet F) (stack : StackSeen F) (seen : HelpersSeen F) (unpassed : (o : Option Helper) (h : Helper) → handed_on o ≡ Some h → known h ≡ false) where
    pub told : Told F strict by_global
    told = record { helpers = seen; names = visible_name }

    abbrev pub At : Place → Place → Type 0
    At p q = PlaceLike F quiet stack strict below by_global told CallsKnown kept p q

    -- A CALL, by what its callee says

    module _ (w v : World) (same : SameWorld hidden w v) (ls : List Text) (x : Text) where
      abbrev source : Place
      source = placed_at by_global w ls x

      abbrev target : Place
      target = placed_at by_global v ls x

      said_call : (n : Take) (y : Text) (f d : Sense) {es gs : List Sense} → f.more ≡ helper_call y → d.more ≡ helper_call y → SensesLike F w v (take the_value true) es gs → SenseLike F w v n (call_sense source false f es) (call_sense target false d gs)
      said_call n y f d {es = es} {gs = gs} e i h =
          let says : Sense = only_more (helper_call y) in
          let like = call_sense_like F quiet w v same strict by_global told n ls x false says says (record { core = nothing_like F w v same (the_callee false); more = λ _. same_helper }) h in
          rw (e, i) like

      said_parts : (n : Take) (y : Text) (f d : Sense) (ts : List (Option Text)) (fs : List Bool) (block : Scope) {xs ys : List Portion} → flag fs ≡ false → f.more ≡ helper_call y → d.more ≡ helper_call y → PortionsLike F (λ i. w) (λ i. v) (λ i. take the_value true) xs ys →
          SenseLike F w v n (sense_of source CallExpression ts fs block w (of_one_many (call_of w (flag fs)) (core_parts (alone f ∷ xs))) (alone f ∷ xs)) (sense_of target CallExpression ts fs block v (of_one_many (call_of v (flag fs)) (core_parts (alone d ∷ ys))) (alone d ∷ ys))
      said_parts n y f d ts fs block flags e j (one_portion (rows_like h) no_portion) = rw flags (said_call n y f d e j h)
      said_parts n y f d ts fs block flags e j _ = nothing_sense F quiet n w v same

      -- and so does a name that stands for it
      name_says : (h : Helper) → v.scope (c h).name ≡ silent (helper_name (helper_text h)) → (sense target (named h)).more ≡ helper_call (helper_text h)
      name_says h e = ap (λ (b : Binding). said_in by_global b) e

    -- THE TREE

    name_told : (n : Take) (l : Label) (fs gs : Fields) (w v : World) → SameWorld hidden w v → (ls : List Text) (x : Text) → n.need.level ≡ Level.no_evaluation →
        SenseLike F w v n (heard_sense n.need.level (sense (placed_at by_global w ls x) (node Identifier l fs))) (heard_sense n.need.level (sense (placed_at by_global v ls x) (node Identifier l gs)))
    name_told n l fs gs w v same ls x e =
        let like : SenseLike F w v n (heard_sense Level.no_evaluation (sense (placed_at by_global w ls x) (node Identifier l fs))) (heard_sense Level.no_evaluation (sense (placed_at by_global v ls x) (node Identifier l gs))) =
        record {
          core = kind_like F w v same n.need Identifier l.texts l.flags {ps = []} {qs = []} (ap (λ (m : Level). bad_names hidden none_hidden m (first_text l.texts)) e) no_part;
          more = λ _. rw (name_unsaid by_global (w.scope (first_text l.texts)), name_unsaid by_global (v.scope (first_text l.texts))) same_nothing;
        } in
        subst (λ (m : Level). SenseLike F w v n (heard_sense m (sense (placed_at by_global w ls x) (node Identifier l fs))) (heard_sense m (sense (placed_at by_global v ls x) (node Identifier l gs)))) (sym e) like

    -- the fields of a node, as it hears them
    abbrev FieldsHeard : Take → AstType → Label → Fields → Fields → World → World → List Text → Text → Type 0
    FieldsHeard n k l fs gs w v ls x =
        PortionsLike F (λ i. (inside (placed_at by_global w ls x) k l.texts (own_names k fs) (label_in k fs) i).world) (λ i. (inside (placed_at by_global v ls x) k l.texts (own_names k fs) (label_in k fs) i).world) (takes_of n k l.texts l.flags)
        (heard_parts (takes_of n k l.texts l.flags) (portions (inside (placed_at by_global w ls x) k l.texts (own_names k fs) (label_in k fs)) fs)) (heard_parts (takes_of n k l.texts l.flags) (portions (inside (placed_at by_global v ls x) k l.texts (own_names k fs) (label_in k fs)) gs))

    -- a node that calls no helper
    plain_like : (n : Take) (k : AstType) (l : Label) (fs : Fields) (w v : World) → SameWorld hidden w v → (ls : List Text) (x : Text) → is_bad strict n.need.level k l.texts ≡ false → all_good bad (names_of_all (own_names k fs)) ≡ true → All Plainly (node k l fs) →
        FieldsHeard n k l fs (calling_in named fs) w v ls x → SenseLike F w v n (sense (placed_at by_global w ls x) (node k l fs)) (sense (placed_at by_global v ls x) (node k l (calling_in named fs)))
    plain_like n k l fs w v same ls x st good plain h =
        let ds = own_names k fs in
        let uses = own_use k fs in
        let vs = label_in k fs in
        let p = placed_at by_global w ls x in
        let q = placed_at by_global v ls x in
        let xs = portions (inside p k l.texts ds vs) fs in
        let ys = portions (inside q k l.texts ds vs) (calling_in named fs) in
        let close = kind_close F quiet strict below by_global told n w v same ls x k l.texts l.flags ds uses vs (λ _. stack) (λ _. stack) st (visible_good F strict below (names_of_all ds) (strict_good (names_of_all ds) good)) h in
        said_alike F quiet stack strict below by_global told CallsKnown kept (λ t a b. ⊥) (λ t a b r. absurd r) n w v same ls x k l.texts l.texts l.flags l.flags ds (own_names k (calling_in named fs)) uses (own_use k (calling_in named fs)) vs (label_in k (calling_in named fs)) xs
        (λ us es ws. portions (inside q k us es ws) (calling_in named fs)) refl refl (own_now named (λ g. refl) k l fs plain) (use_now named (λ g. refl) k fs) (label_now named (λ g. refl) k fs)
        (subst (λ (d : Sense). SenseLike F w v n (from_portions p k l.texts l.flags ds uses vs xs) d) (heard_portions n q k l.texts l.flags ds uses vs ys)
        (subst (λ (e : Sense). SenseLike F w v n e (from_portions q k l.texts l.flags ds uses vs (heard_parts (takes_of n k l.texts l.flags) ys))) (heard_portions n p k l.texts l.flags ds uses vs xs) close))

    uncalled_like : (n : Take) (k : AstType) (l : Label) (fs : Fields) (w v : World) → SameWorld hidden w v → (ls : List Text) (x : Text) → is_bad bad n.need.level k l.texts ≡ false → all_good bad (names_of_all (own_names k fs)) ≡ true → All Plainly (node k l fs) →
        FieldsHeard n k l fs (calling_in named fs) w v ls x → (b : Bool) → is_told_name n.need.level k ≡ b →
        SenseLike F w v n (heard_sense n.need.level (sense (placed_at by_global w ls x) (node k l fs))) (heard_sense n.need.level (sense (placed_at by_global v ls x) (node k l (calling_in named fs))))
    uncalled_like n Identifier l fs w v same ls x st good plain h true e = name_told n l fs (calling_in named fs) w v same ls x (told_level n.need.level e)
    uncalled_like n _ l fs w v same ls x st good plain h true e = absurd (cc e)
    uncalled_like n k l fs w v same ls x st good plain h false e =
        sense_heard F w v n (sense (placed_at by_global w ls x) (node k l fs)) (sense (placed_at by_global v ls x) (node k l (calling_in named fs))) (plain_like n k l fs w v same ls x (strict_here n.need.level k l.texts e st) good plain h)

    node_like : (o : Option Helper) (n : Take) (k : AstType) (l : Label) (fs : Fields) (w v : World) → SameWorld hidden w v → CallsKnown w v → (ls : List Text) (x : Text) → used_helper k l fs ≡ o → is_bad bad n.need.level k l.texts ≡ false → all_good bad (names_of_all (own_names k fs)) ≡ true →
        All Plainly (node k l fs) → AllNamed (own_helper o) → FieldsHeard n k l fs (calling_in named fs) w v ls x →
        SenseLike F w v n (heard_sense n.need.level (sense (placed_at by_global w ls x) (node k l fs))) (heard_sense n.need.level (sense (placed_at by_global v ls x) (node k l (calling_here named o (calling_in named fs)))))
    node_like None n k l fs w v same world ls x e st good plain here h = uncalled_like n k l fs w v same ls x st good plain h (is_told_name n.need.level k) refl
    node_like (Some g) n k l fs w v same world ls x e st good plain here h = at (helper_shape k l fs g e) h
      where
        at : {k : AstType} {l : Label} {fs : Fields} → HelperCall g k l fs → FieldsHeard n k l fs (calling_in named fs) w v ls x →
            SenseLike F w v n (heard_sense n.need.level (sense (placed_at by_global w ls x) (node k l fs))) (heard_sense n.need.level (sense (placed_at by_global v ls x) (node k l (calling_here named (Some g) (calling_in named fs)))))
        at (helper_called {l = l} {j = j} {i = i} {m = m} {gs = gs} {hs = hs} {fs = fs} mark a b object name) (one_portion f rest) =
            let text = text_named (first_text m.texts) g name in
            let xs = portions (λ i. inside (placed_at by_global w ls x) CallExpression l.texts [] [] (suc i)) fs in
            let ys = portions (λ i. inside (placed_at by_global v ls x) CallExpression l.texts [] [] (suc i)) (calling_in named fs) in
            let taken : Take = take the_value true in
            let arguments : PortionsLike F (λ i. w) (λ i. v) (λ i. taken) xs ys =
            subst (λ (zs : List Portion). PortionsLike F (λ i. w) (λ i. v) (λ i. taken) xs zs) (untold taken refl ys) (subst (λ (zs : List Portion). PortionsLike F (λ i. w) (λ i. v) (λ i. taken) zs (heard_parts (λ i. taken) ys)) (untold taken refl xs) rest) in
            let member = node MemberExpression j (one (node Identifier i gs) then (one (node Identifier m hs) then done)) in
            let before_it = heard_sense n.need.level (sense (placed_at by_global w ls x) (node CallExpression l (one member then fs))) in
            subst (λ (new : Fields). SenseLike F w v n before_it (heard_sense n.need.level (sense (placed_at by_global v ls x) (node CallExpression l new)))) (sym (here-called named member fs g (member_helper g j i m gs hs a b object name)))
            (sense_heard F w v n _ _
            (said_parts w v same ls x n (first_text m.texts) (sense (placed_at by_global w [] []) member) (sense (placed_at by_global v [] []) (named g)) l.texts l.flags (scope_by [] false)
            (sym (first_flag l.flags) ∙ mark) (callee_says w j i m gs hs a b object text.1 world.global) (name_says w v same [] [] g (world.names g here.0) ∙ ap helper_call text.0) arguments))
        at (helper_passed e) parts = absurd (let no : false ≡ true = sym (unpassed _ g e) ∙ here.0 in cc)

    abbrev Heard : Take → Place → Place → Sense → Sense → Type 0
    Heard n p q e d = SenseLike F p.world q.world n (heard_sense n.need.level e) (heard_sense n.need.level d)

    mutual
      calling_like : (t : Tree) (n : Take) → avoids bad n t ≡ true → All Plainly t → AllNamed (helpers_in t) → {p q : Place} → At p q → Heard n p q (sense p t) (sense q (calling named t))
      calling_like (node k l fs) n h plain names (place_like {w = w} {v = v} {ls = ls} {x = x} same world) =
          let st = is_bad bad n.need.level k l.texts in
          let good = all_good bad (names_of_all (own_names k fs)) in
          let later = avoids_fields bad (takes_of n k l.texts l.flags) fs in
          let first = and_parts (not st) (good && later) h in
          let rest = and_parts good later first.1 in
          let both = all_left (helpers_in_fields fs) (own_helper (used_helper k l fs)) names in
          node_like (used_helper k l fs) n k l fs w v same world ls x refl (not_so st first.0) rest.0 plain both.1
          (fields_like fs (takes_of n k l.texts l.flags) rest.1 plain.1 both.0 (λ i. inside (placed_at by_global w ls x) k l.texts (own_names k fs) (label_in k fs) i) (λ i. inside (placed_at by_global v ls x) k l.texts (own_names k fs) (label_in k fs) i)
          (λ i. inside_like F quiet stack strict below by_global told CallsKnown kept w v ls x same world k l.texts (own_names k fs) (label_in k fs) i (strict_good (names_of_all (own_names k fs)) rest.0)))

      fields_like : (fs : Fields) (g : ℕ → Take) → avoids_fields bad g fs ≡ true → AllIn Plainly fs → AllNamed (helpers_in_fields fs) → (at bt : ℕ → Place) → ((i : ℕ) → At (at i) (bt i)) →
          PortionsLike F (λ i. (at i).world) (λ i. (bt i).world) g (heard_parts g (portions at fs)) (heard_parts g (portions bt (calling_in named fs)))
      fields_like done g h plain names at bt e = no_portion
      fields_like (f then fs) g h plain names at bt e =
          let d = and_parts (avoids_field bad (g zero) f) (avoids_fields bad (λ i. g (suc i)) fs) h in
          let both = all_left (helpers_in_field f) (helpers_in_fields fs) names in
          one_portion (field_like f (g zero) d.0 plain.0 both.0 (e zero)) (fields_like fs (λ i. g (suc i)) d.1 plain.1 both.1 (λ i. at (suc i)) (λ i. bt (suc i)) (λ i. e (suc i)))

      field_like : (f : Field) (n : Take) → avoids_field bad n f ≡ true → AllBy Plainly f → AllNamed (helpers_in_field f) → {p q : Place} → At p q → PortionLike F p.world q.world n (heard n (portion p f)) (heard n (portion q (calling_by named f)))
      field_like missing n h plain names {p = p} {q = q} e = gap_heard F p.world q.world n
      field_like (one t) n h plain names {p = p} {q = q} e = alone_heard F p.world q.world n (sense p t) (sense q (calling named t)) (calling_like t n h plain names e)
      field_like (many ts) n h plain names {p = p} {q = q} e = rows_heard F p.world q.world n (all_like ts n h plain names e)
      field_like (statements ts) n h plain names {p = p} {q = q} e = rows_heard F p.world q.world n (all_like ts n h plain names e)

      all_like : (ts : Trees) (n : Take) → avoids_trees bad n ts ≡ true → AllAmong Plainly ts → AllNamed (helpers_among ts) → {p q : Place} → At p q → HeardAll F p.world q.world n (senses p ts) (senses q (calling_among named ts))
      all_like empty n h plain names e = heard_none
      all_like (t before ts) n h plain names e =
          let d = and_parts (avoids bad n t) (avoids_trees bad n ts) h in
          let both = all_left (helpers_in t) (helpers_among ts) names in
          heard_and (calling_like t n d.0 plain.0 both.0 e) (all_like ts n d.1 plain.1 both.1 e)

    -- where a value is taken
    pub trees_like : (ts : Trees) (n : Take) → is_told n.need.level ≡ false → avoids_trees bad n ts ≡ true → AllAmong Plainly ts → AllNamed (helpers_among ts) → {p q : Place} → At p q → SensesLike F p.world q.world n (senses p ts) (senses q (calling_among named ts))
    trees_like ts n level h plain names {p = p} {q = q} e = senses_untold F p.world q.world n level (all_like ts n h plain names e)
