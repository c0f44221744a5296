-- The causes of a refusal and a source that is taken exclude one another.
use Rattle.std.proofs.Common.{◌≡◌, ℕ, List, [], Some, None, sym, ap, ◌∙◌, subst, arith, ◌++◌, refl, ◌∷◌}
use Rattle.serde_json.specs.Data.{Data}
use Rattle.es_tree.specs.CoreStaticRules.{Break}
use Rattle.es_tree.specs.Options.{first_fault}
use Rattle.es_tree.specs.StaticRules.{breaks, IsFirstBreak}
use Rattle.es_tree.specs.Tree.{Tree}
use Rattle.es_tree.specs.declared.error.LowerError.{LowerError}
use Rattle.es_tree.specs.declared.error.LowerError.TheVariants.{Json, Option as e-Option, TooLarge, TooDeep, Shape, Invalid, Unsupported}
use Rattle.es_tree.specs.declared.error.OptionName.{OptionName}
use Rattle.es_tree.specs.declared.error.Rule.{Rule}
use Rattle.es_tree.specs.declared.error.UnsupportedKind.{UnsupportedKind}
use Rattle.es_tree.specs.declared.ids.NodeId.{NodeId}
use Rattle.es_tree.specs.declared.options.EnvOptions.{EnvOptions}
use Rattle.es_tree.specs.declared.table.Sort.TheVariants.{Program as s-Program}
use Rattle.es_json.specs.Faults.{faults, first_path_of}
use Rattle.es_json.specs.Programs.{IsProgramForm, IsRefusal}
use Rattle.es_json.proofs.NoFaults.{no_faults}
use Rattle.es_json.proofs.OneTree.{one_tree_always}
use Rattle.std.specs.Prelude.{codes}
use Rattle.std.specs.Fmt.{decimal}
use Rattle.es_tree.specs.Causes.{rule_name, unsupported_name}
use Rattle.es_json.specs.Pointer.{pointer}
use Rattle.lower_command.specs.Answer.{line, refusal_text}
use Rattle.lower_driver.specs.Copies.{IsCopy}
use Rattle.lower_driver.specs.Sources.{IsReading, HasReading, ReadsAs, IsSource, IsBrokenValue, IsUnsupportedValue, IsCauseUnder}
use Rattle.lower_driver.specs.UnsupportedPrograms.{Finds}
use Rattle.lower_driver.proofs.CopiedOptions.{copied-fault}
use Rattle.lower_driver.proofs.Stages.{copied-finds, finds-one}
use Rattle.lower_command.specs.Job.{IsTakenSource}

-- bytes read as one value, and a value is the form of one program
one_value : (bytes : List ℕ) (v w : Data) → IsReading bytes v → IsReading bytes w → v ≡ w
one_value bytes v w a b = let same : Some v ≡ Some w = sym a.reads ∙ b.reads in cc

one_program : (v : Data) (p q : Tree) → IsSource v p → IsSource v q → p ≡ q
one_program v p q a b = one_tree_always s-Program v p q 0 a.form.form b.form.form a.order b.order a.marks b.marks

-- the causes that the reader of programs has
abbrev IsUnreadError : LowerError → Type 0
IsUnreadError (TooLarge n) = Unit {0}
IsUnreadError (TooDeep n) = Unit {0}
IsUnreadError (Shape path) = Unit {0}
IsUnreadError _ = ⊥

no_refusal : (v : Data) (p : Tree) (error : LowerError) → IsProgramForm v p → IsRefusal v error → IsUnreadError error → ⊥
no_refusal v p (TooLarge n) form refused _ = absurd (omega (arith, form.small, refused.0))
no_refusal v p (TooDeep n) form refused _ = absurd (omega (arith, form.shallow, refused.1))
no_refusal v p (Shape path) form refused _ =
    let none : faults s-Program v ≡ [] = no_faults s-Program v p form.form in
    let first : first_path_of [] ≡ Some refused.2.path = rw none at refused.2.first in
    cc
no_refusal v p _ form refused told = absurd told

pub taken_as : (o q : EnvOptions) (bytes : List ℕ) → IsCopy q o → IsTakenSource o bytes → IsTakenSource q bytes
taken_as o q bytes same source = record {
  carried = sym (copied-fault q o same) ∙ source.carried;
  program = source.program;
  reads = source.reads;
  kept = source.kept;
  taken = copied-finds q o same source.program None source.taken;
}

-- ONE CAUSE: an input has at most one line

-- a cause by what is known of the value
data Known (o : EnvOptions) (v : Data) : LowerError → Type 0 where
  unread : {error : LowerError} → IsUnreadError error → IsRefusal v error → Known o v error
  broken : {rule : Rule} {id : NodeId} → IsBrokenValue v (Invalid rule id) → Known o v (Invalid rule id)
  unsupported : {kind : UnsupportedKind} {id : NodeId} → IsUnsupportedValue o v kind id → Known o v (Unsupported kind id)

-- or by the bytes that have no reading, or by what the options ask for
data Told (o : EnvOptions) (bytes : List ℕ) : LowerError → Type 0 where
  no_reading : (HasReading bytes → ⊥) → Told o bytes Json
  uncarried : {name : OptionName} → HasReading bytes → first_fault o ≡ Some name → Told o bytes (e-Option name)
  carried : {error : LowerError} → first_fault o ≡ None → ReadsAs (λ v. Known o v error) bytes → Told o bytes error

told : (o q : EnvOptions) (bytes : List ℕ) (error : LowerError) → IsCopy q o → IsCauseUnder o bytes error → Told q bytes error
told o q bytes Json same cause = no_reading cause
told o q bytes (e-Option name) same cause = uncarried (record { value = cause.value; reading = cause.reading }) (sym (copied-fault q o same) ∙ cause.holds)
told o q bytes (TooLarge n) same cause = carried (sym (copied-fault q o same) ∙ cause.holds.0) (record { value = cause.value; reading = cause.reading; holds = unread tt cause.holds.1 })
told o q bytes (TooDeep n) same cause = carried (sym (copied-fault q o same) ∙ cause.holds.0) (record { value = cause.value; reading = cause.reading; holds = unread tt cause.holds.1 })
told o q bytes (Shape path) same cause = carried (sym (copied-fault q o same) ∙ cause.holds.0) (record { value = cause.value; reading = cause.reading; holds = unread tt cause.holds.1 })
told o q bytes (Unsupported kind id) same cause =
    let shape = cause.holds.1 in
    carried (sym (copied-fault q o same) ∙ cause.holds.0) (record {
      value = cause.value;
      reading = cause.reading;
      holds = unsupported (record {
        program = shape.program;
        source = shape.source;
        kept = shape.kept;
        unsupported = copied-finds q o same shape.program (Some (kind, id.0)) shape.unsupported;
      });
    })
told o q bytes (Invalid rule id) same cause = carried (sym (copied-fault q o same) ∙ cause.holds.0) (record { value = cause.value; reading = cause.reading; holds = broken cause.holds.1 })
told o q bytes _ same cause = absurd cause.holds.1

unread_line : (v : Data) (e f : LowerError) → IsUnreadError e → IsUnreadError f → IsRefusal v e → IsRefusal v f → refusal_text e ≡ refusal_text f
unread_line v (TooLarge n) (TooLarge m) _ _ r s = ap (λ k. refusal_text (TooLarge k)) (r.1 ∙ sym s.1)
unread_line v (TooDeep n) (TooDeep m) _ _ r s = ap (λ k. refusal_text (TooDeep k)) (r.2 ∙ sym s.2)
unread_line v (Shape p) (Shape q) _ _ r s =
    let same : Some r.2.path ≡ Some s.2.path = sym r.2.first ∙ s.2.first in
    let path : r.2.path ≡ s.2.path = cc in
    ap (λ (text : List ℕ). line (codes "lower: shape " ++ text)) (r.2.pointed ∙ ap pointer path ∙ sym s.2.pointed)
unread_line v (TooLarge n) (TooDeep m) _ _ r s = absurd (omega (arith, r.0, s.0))
unread_line v (TooLarge n) (Shape q) _ _ r s = absurd (omega (arith, r.0, s.0))
unread_line v (TooDeep n) (TooLarge m) _ _ r s = absurd (omega (arith, r.0, s.0))
unread_line v (TooDeep n) (Shape q) _ _ r s = absurd (omega (arith, r.1, s.1))
unread_line v (Shape p) (TooLarge m) _ _ r s = absurd (omega (arith, r.0, s.0))
unread_line v (Shape p) (TooDeep m) _ _ r s = absurd (omega (arith, r.1, s.1))
unread_line v (TooLarge n) _ _ told r s = absurd told
unread_line v (TooDeep n) _ _ told r s = absurd told
unread_line v (Shape p) _ _ told r s = absurd told
unread_line v _ f told _ r s = absurd told

break_line : (bs : List Break) (r s : Rule) (i j : NodeId) → IsFirstBreak bs (Invalid r i) → IsFirstBreak bs (Invalid s j) → refusal_text (Invalid r i) ≡ refusal_text (Invalid s j)
break_line [] r s i j h g = absurd h
break_line (b ∷ bs) r s i j h g = let same : (r, i.0) ≡ (s, j.0) = sym h ∙ g in ap (λ (x : Break). line (codes "lower: invalid " ++ rule_name x.0 ++ codes " at node " ++ decimal x.1)) same

broken_anyway : (v : Data) (rule : Rule) (id : NodeId) (p : Tree) → IsBrokenValue v (Invalid rule id) → IsSource v p → breaks p ≡ [] → ⊥
broken_anyway v rule id p b source kept =
    let same = one_program v b.program p b.source source in
    let first : IsFirstBreak (breaks p) (Invalid rule id) = subst (λ t. IsFirstBreak (breaks t) (Invalid rule id)) same b.first in
    subst (λ (bs : List Break). IsFirstBreak bs (Invalid rule id)) kept first

found_none : (a : UnsupportedKind × ℕ) → Some a ≡ None → ⊥
found_none a both = cc

unsupported_anyway : (o : EnvOptions) (v : Data) (kind : UnsupportedKind) (id : NodeId) (p : Tree) → IsUnsupportedValue o v kind id → IsSource v p → Finds o p None → ⊥
unsupported_anyway o v kind id p b source taken =
    let same = one_program v b.program p b.source source in
    found_none (kind, id.0) (finds-one o p (Some (kind, id.0)) None (subst (λ t. Finds o t (Some (kind, id.0))) same b.unsupported) taken)

unsupported_line : (a b : UnsupportedKind × ℕ) → Some a ≡ Some b
    → line (codes "lower: unsupported " ++ unsupported_name a.0 ++ codes " at node " ++ decimal a.1) ≡ line (codes "lower: unsupported " ++ unsupported_name b.0 ++ codes " at node " ++ decimal b.1)
unsupported_line a b both =
    let same : a ≡ b = cc in
    ap (λ (x : UnsupportedKind × ℕ). line (codes "lower: unsupported " ++ unsupported_name x.0 ++ codes " at node " ++ decimal x.1)) same

one_line : (o : EnvOptions) (v : Data) (e f : LowerError) → Known o v e → Known o v f → refusal_text e ≡ refusal_text f
one_line o v e f (unread told r) (unread also s) = unread_line v e f told also r s
one_line o v e _ (unread told r) (broken b) = absurd (no_refusal v b.program e b.source.form r told)
one_line o v e _ (unread told r) (unsupported b) = absurd (no_refusal v b.program e b.source.form r told)
one_line o v _ f (broken b) (unread told r) = absurd (no_refusal v b.program f b.source.form r told)
one_line o v _ f (unsupported b) (unread told r) = absurd (no_refusal v b.program f b.source.form r told)
one_line o v _ _ (broken {rule = r} {id = i} b) (broken {rule = s} {id = j} d) =
    let same = one_program v b.program d.program b.source d.source in
    break_line (breaks d.program) r s i j (subst (λ p. IsFirstBreak (breaks p) (Invalid r i)) same b.first) d.first
one_line o v _ _ (broken {rule = r} {id = i} b) (unsupported d) = absurd (broken_anyway v r i d.program b d.source d.kept)
one_line o v _ _ (unsupported b) (broken {rule = r} {id = i} d) = absurd (broken_anyway v r i b.program d b.source b.kept)
one_line o v _ _ (unsupported {kind = j} {id = i} b) (unsupported {kind = k} {id = m} d) =
    let same = one_program v b.program d.program b.source d.source in
    unsupported_line (j, i.0) (k, m.0) (finds-one o d.program (Some (j, i.0)) (Some (k, m.0)) (subst (λ p. Finds o p (Some (j, i.0))) same b.unsupported) d.unsupported)

-- what is told of the input, or of the options, is told in one line
told_line : (o : EnvOptions) (bytes : List ℕ) (e f : LowerError) → Told o bytes e → Told o bytes f → refusal_text e ≡ refusal_text f
told_line o bytes _ _ (no_reading n) (no_reading m) = refl
told_line o bytes _ _ (no_reading n) (uncarried reading _) = absurd (n reading)
told_line o bytes _ _ (no_reading n) (carried _ r) = absurd (n (record { value = r.value; reading = r.reading }))
told_line o bytes _ _ (uncarried reading _) (no_reading n) = absurd (n reading)
told_line o bytes _ _ (carried _ r) (no_reading n) = absurd (n (record { value = r.value; reading = r.reading }))
told_line o bytes _ _ (uncarried {name = a} _ first) (uncarried {name = b} _ also) =
    let both : Some a ≡ Some b = sym first ∙ also in
    let same : a ≡ b = cc in
    ap (λ (name : OptionName). refusal_text (e-Option name)) same
told_line o bytes _ _ (uncarried {name = a} _ first) (carried none _) = let both : Some a ≡ None = sym first ∙ none in absurd (cc)
told_line o bytes _ _ (carried none _) (uncarried {name = a} _ first) = let both : Some a ≡ None = sym first ∙ none in absurd (cc)
told_line o bytes e f (carried _ r) (carried _ s) =
    let same = one_value bytes r.value s.value r.reading s.reading in
    one_line o s.value e f (subst (λ v. Known o v e) same r.holds) s.holds

-- two causes of one input have one line
pub one_cause : (o q : EnvOptions) (bytes : List ℕ) (e f : LowerError) → IsCopy q o → IsCauseUnder q bytes e → IsCauseUnder o bytes f
    → refusal_text e ≡ refusal_text f
one_cause o q bytes e f same cause other =
    told_line q bytes e f (told q q bytes e (record { es2015 = refl; es2016 = refl; es2017 = refl; es2018 = refl; es2019 = refl; es2020 = refl; es2021 = refl; es2026 = refl; assumptions = refl; mode = refl; module_name = refl }) cause) (told o q bytes f same other)

-- a source that is taken is refused for no cause
not_taken : (o : EnvOptions) (v : Data) (error : LowerError) (p : Tree) → Known o v error
    → IsSource v p → breaks p ≡ [] → Finds o p None → ⊥
not_taken o v error p (unread told r) source kept taken = no_refusal v p error source.form r told
not_taken o v _ p (broken {rule = r} {id = i} b) source kept taken = broken_anyway v r i p b source kept
not_taken o v _ p (unsupported {kind = k} {id = i} b) source kept taken = unsupported_anyway o v k i p b source taken

not_told : (o : EnvOptions) (bytes : List ℕ) (error : LowerError) → Told o bytes error → IsTakenSource o bytes → ⊥
not_told o bytes _ (no_reading n) source = n (record { value = source.reads.value; reading = source.reads.reading })
not_told o bytes _ (uncarried {name = name} _ first) source = let both : Some name ≡ None = sym first ∙ source.carried in cc
not_told o bytes error (carried _ r) source =
    let same = one_value bytes r.value source.reads.value r.reading source.reads.reading in
    not_taken o source.reads.value error source.program (subst (λ v. Known o v error) same r.holds) source.reads.holds source.kept source.taken

pub not_refused : (o q : EnvOptions) (bytes : List ℕ) (error : LowerError) → IsCopy q o → IsCauseUnder o bytes error → IsTakenSource q bytes → ⊥
not_refused o q bytes error same cause source = not_told q bytes error (told o q bytes error same cause) source
