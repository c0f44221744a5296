use Rattle.std.proofs.Common.{◌≡◌, ◌∙◌, ap, refl, sym}
use Rattle.std.specs.Prelude.{Bool, ◌||◌, false, [], ◌∷◌}
use Rattle.es_tree.specs.Constructs.{is_private_name}
use Rattle.es_tree.specs.Tree.{kind_of}
use Rattle.es_resolution.specs.Seen.{seen}
use Rattle.lower_temporaries.proofs.Takings.{reads-ids}
use Rattle.es_traverse.proofs.Kept.{kind-seen}
use Rattle.lower_exponentiation.proofs.SeenParts.{evaluated-seen, key-seen, texts-seen}
use Rattle.lower_exponentiation.proofs.TargetParts.{used_key_copies, used_key_temporary, used_key_texts}
use Rattle.lower_exponentiation.proofs.targets.use_key.Goals as goal
use Rattle.lower_exponentiation.proofs.targets.use_key.Goals.{then-computed, else-computed}

pub returns-in_ok-used : goal.returns-in_ok-used
returns-in_ok-used c names = used_key_temporary c.args.computed c.args.ctx.now c.use_temporary.new.ctx (seen names c.args.key) _ _ _ (evaluated-seen names c.args.computed c.args.key ∙ (sym c.is_evaluated_key.ensures ∙ c.if-is_evaluated_key.true)) (c.in_ok-used.ensures names)

pub returns-in_ok-used-2 : goal.returns-in_ok-used-2
returns-in_ok-used-2 c names =
    let k = c.args.key in
    let private = is_private_name (kind_of k) in
    let stays : (c.args.computed || private) ≡ c.if-computed.value = elim c.if-computed.branch [
      | then-computed w ↦ ap (λ (b : Bool). b || private) w.if-computed.true ∙ sym w.if-computed.true ∙ sym w.value-is
      | else-computed w ↦ ap (λ (b : Bool). b || private) w.if-computed.false ∙ sym w.is_private_name.ensures ∙ sym w.value-is
    ] in
    used_key_copies c.args.computed c.args.ctx.now c.use_copies.new.ctx (seen names k) _ _ _ (key-seen names (c.args.computed ∷ false ∷ []) k ∙ c.requires.key) (evaluated-seen names c.args.computed k ∙ (sym c.is_evaluated_key.ensures ∙ c.if-is_evaluated_key.false))
    (ap (λ j. c.args.computed || is_private_name j) (kind-seen names k) ∙ (stays ∙ c.if-is_private_name.true)) (c.in_ok-used-2.ensures.used names) c.in_ok-used-2.ensures.reads

pub returns-in_ok-used-3 : goal.returns-in_ok-used-3
returns-in_ok-used-3 c names =
    let k = c.args.key in
    let private = is_private_name (kind_of k) in
    let stays : (c.args.computed || private) ≡ c.if-computed.value = elim c.if-computed.branch [
      | then-computed w ↦ ap (λ (b : Bool). b || private) w.if-computed.true ∙ sym w.if-computed.true ∙ sym w.value-is
      | else-computed w ↦ ap (λ (b : Bool). b || private) w.if-computed.false ∙ sym w.is_private_name.ensures ∙ sym w.value-is
    ] in
    used_key_texts c.args.computed c.args.ctx.now _ (seen names k) _ _ _ (key-seen names (c.args.computed ∷ false ∷ []) k ∙ c.requires.key) (ap (λ j. c.args.computed || is_private_name j) (kind-seen names k) ∙ (stays ∙ c.if-is_private_name.false))
    (texts-seen names k _ _ _ (c.in_ok-used-3.ensures.used names)) (reads-ids 2 c.args.ctx.now _ c.in_ok-used-3.ensures.counted refl (record { used = λ x. refl; made_is = refl }) (record { state = refl; options = refl; around = refl; scopes = refl; place = refl }))
