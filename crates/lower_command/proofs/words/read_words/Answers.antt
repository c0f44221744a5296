use Rattle.std.proofs.Common.{◌≡◌, [], ap, ◌∙◌, sym, subst, map, string_bytes, true, false, inl, inr}
use Rattle.std.proofs.lemmas.Result.{IfErr-weaker, IfOk-weaker}
use Rattle.clap.specs.Simple.{App, app_of}
use Rattle.clap.specs.Faults.{fault_of, is_simple_and_free}
use Rattle.clap.specs.Kinds.{HasKind, Kinds}
use Rattle.clap.specs.contracts.error.kind.ErrorKind.{the_type}
use Rattle.clap.specs.declared.error.kind.ErrorKind.{ErrorKind}
use Rattle.clap.specs.declared.error.kind.ErrorKind.TheVariants.{OutOfMemory}
use denote.Enum.Bare.{sameb}
use Rattle.lower_command.proofs.Flags.{proper, proper_values, rows_are}
use Rattle.lower_command.proofs.words.read_words.Goals as goal

pub returns-in-Ok-try_get_matches_from-clause-proper : goal.returns-in-Ok-try_get_matches_from-clause-proper
returns-in-Ok-try_get_matches_from-clause-proper c =
    let taken = sym (ap (λ (a : App). fault_of a (map string_bytes c.args.words.now)) c.in-Ok.ensures) ∙ c.in-Ok-try_get_matches_from.ensures.kinds (ap is_simple_and_free c.in-Ok.ensures) in
    let same = rows_are (app_of c.in-Ok.command_line) (map string_bytes c.args.words.now) c.in-Ok-try_get_matches_from.matches c.in-Ok.ensures c.in-Ok-try_get_matches_from.ensures.matches in
    IfOk-weaker c.command_of.result _ _ (λ _ values. proper c.args.words.now _ same taken values) c.command_of.ensures.values

pub returns-in-Ok-try_get_matches_from-clause-asked : goal.returns-in-Ok-try_get_matches_from-clause-asked
returns-in-Ok-try_get_matches_from-clause-asked c =
    let same = rows_are (app_of c.in-Ok.command_line) (map string_bytes c.args.words.now) c.in-Ok-try_get_matches_from.matches c.in-Ok.ensures c.in-Ok-try_get_matches_from.ensures.matches in
    rw same at c.command_of.ensures.asked

pub returns-in-Ok-try_get_matches_from-clause-generate : goal.returns-in-Ok-try_get_matches_from-clause-generate
returns-in-Ok-try_get_matches_from-clause-generate c =
    let same = rows_are (app_of c.in-Ok.command_line) (map string_bytes c.args.words.now) c.in-Ok-try_get_matches_from.matches c.in-Ok.ensures c.in-Ok-try_get_matches_from.ensures.matches in
    rw same at c.command_of.ensures.generate

pub returns-in-Ok-try_get_matches_from-clause-refused : goal.returns-in-Ok-try_get_matches_from-clause-refused
returns-in-Ok-try_get_matches_from-clause-refused c =
    let same = rows_are (app_of c.in-Ok.command_line) (map string_bytes c.args.words.now) c.in-Ok-try_get_matches_from.matches c.in-Ok.ensures c.in-Ok-try_get_matches_from.ensures.matches in
    IfErr-weaker c.command_of.result _ _ (λ fault refused is p. refused is (proper_values c.args.words.now _ same p)) c.command_of.ensures.refused

pub returns-in-Err-2-clause-refused : goal.returns-in-Err-2-clause-refused
returns-in-Err-2-clause-refused c = λ _ p.
    let none : fault_of (app_of c.in-Ok.command_line) (map string_bytes c.args.words.now) ≡ [] =
    ap (λ (a : App). fault_of a (map string_bytes c.args.words.now)) c.in-Ok.ensures ∙ p.taken in
    let kind = subst (λ (k : Kinds). HasKind k c.in-Err.error) none (c.in-Err.ensures.kinds (ap is_simple_and_free c.in-Ok.ensures)) in
    elim kind [
      | inl memory ↦
          let is : c.kind.result ≡ OutOfMemory = c.kind.ensures ∙ memory in
          let both : false ≡ true = sym c.if-eq.false ∙ c.eq.ensures ∙ ap (λ (k : ErrorKind). sameb the_type k OutOfMemory) is in
          absurd (cc)
      | inr none_such ↦ none_such
    ]
