-- Receivers, by what their code makes of them.
use Rattle.std.proofs.Common.{◌≡◌, ℕ, ◌+◌, ◌*◌, ◌≤◌, List, [], ◌∷◌, ◌++◌, length, refl, sym, ap, subst, ◌∙◌, arith, Option}
use Rattle.std.specs.Prelude.{Bool, true, false, is_some}
use Rattle.es_tree.specs.Fresh.{node_base}
use Rattle.es_tree.specs.Tree.{Tree, node, done, ◌then◌, one, tree_size}
use Rattle.es_tree.specs.declared.ast_type.AstType.TheVariants.{Identifier, MemberExpression}
use Rattle.es_resolution.specs.Declarations.{Bound}
use Rattle.es_resolution.specs.Seen.{seen}
use Rattle.es_runs.specs.OptionalChaining.{is_member, is_super, is_this_or_super, member_at}
use Rattle.es_scope.specs.ContextSymbols.{steady_symbols_of}
use Rattle.es_steps.specs.Duplication.{is_among_symbols}
use Rattle.es_steps.specs.OptionalChaining.{BoundCallee, Receives, bind_node, or_held}
use Rattle.es_steps.specs.OptionalChaining.BoundCallee.{no_member, to_object}
use Rattle.es_steps.specs.OptionalChaining.Receives.{by_this, by_name, by_temporary}
use Rattle.es_steps.specs.Steps.{Whole}
use Rattle.lower_temporaries.proofs.SeenLaws.{base-seen, size-seen}
use Rattle.lower_temporaries.proofs.Takings.{reads-none, takes-none, takes-reads, takes-then}
use Rattle.lower_temporaries.specs.Parenthesized.{first_child}
use Rattle.lower_temporaries.specs.Takings.{ReadsMore, Takes, moment_of}
use Rattle.lower_temporaries.specs.Temporaries.{TakesTemporary, bound_of}
use Rattle.lower_temporaries.specs.declared.temporaries.Temporary.{Temporary}
use Rattle.lower_temporaries.proofs.Later.{next-moved}
use Rattle.lower_chains.proofs.SeenSpines.{first_child-seen, own_name-seen, to_this-seen}
use Rattle.lower_chains.proofs.Weights.{bound_few}
use Rattle.lower_chains.specs.Spines.{IsPlain, is_own_name, is_plain_member, stands}
use Rattle.lower_chains.specs.WayParts.{ChoosesReceiver, IsMeant, WritesCallee, WritesMember, names_for, nodes_for, read_for, written_for}
use Rattle.lower_chains.specs.Ways.{BindsTo, Ctx, Names, to_this, whole_of}
use Rattle.lower_chains.specs.Weights.{FewBound}
use Rattle.lower_chains.specs.declared.receivers.Receiver.{Receiver}
use Rattle.lower_chains.specs.declared.receivers.Receiver.TheVariants.{This, Again, Stored}

-- HOW A RECEIVER IS READ

-- a name that stands alone is one node
pub own-single : (symbols : Option ℕ → Bool) (t : Tree) → is_own_name symbols t ≡ true → tree_size t ≡ 1
own-single symbols (node Identifier l done) h = refl
own-single symbols (node Identifier l (f then fs)) h = absurd (cc h)
own-single symbols (node _ l fs) h = absurd (cc h)

pub stands-single : (ts : List Tree) (t : Tree) → stands is_some ts t ≡ true → tree_size t ≡ 1
stands-single [] t h = own-single is_some t h
stands-single (u ∷ us) t h = absurd (cc h)

module _ (names : Names) (with_this : Bool) (old : Ctx) (holder : Option Bound) (object : Tree) where
  pub chosen-this : to_this with_this object ≡ true → ChoosesReceiver with_this old old holder (seen names object) This
  chosen-this h = record { receives = by_this (to_this-seen names with_this object ∙ h); takes = takes-none (reads-none old) }

  pub chosen-again : to_this with_this object ≡ false → is_own_name (or_held holder (is_among_symbols (steady_symbols_of old))) object ≡ true → ChoosesReceiver with_this old old holder (seen names object) Again
  chosen-again h g = record { receives = by_name (to_this-seen names with_this object ∙ h) (own_name-seen names (or_held holder (is_among_symbols (steady_symbols_of old))) object ∙ g); takes = takes-none (reads-none old) }

  pub chosen-stored : (new : Ctx) (t : Temporary) → to_this with_this object ≡ false → is_own_name (or_held holder (is_among_symbols (steady_symbols_of old))) object ≡ false → TakesTemporary (node_base object) old new t → ChoosesReceiver with_this old new holder (seen names object) (Stored t)
  chosen-stored new t h g made =
      record { receives = by_temporary (to_this-seen names with_this object ∙ h) (own_name-seen names (or_held holder (is_among_symbols (steady_symbols_of old))) object ∙ g) (next-moved refl (sym (base-seen names object)) made.next); takes = made.takes }

-- an id for each node more
pub receiver-size : (names : Names) (r : Receiver) (object : Tree) → IsMeant r object → tree_size (written_for r (seen names object)) + tree_size (read_for r (seen names object)) + 2 * length (names_for r) ≡ 3 * length (names_for r) + nodes_for r + tree_size (seen names object)
receiver-size names This o h = omega arith
receiver-size names Again o h = let e = size-seen names o in omega (arith, e, h)
receiver-size names (Stored t) o h = omega arith

pub receiver-few : (r : Receiver) → 3 * length (names_for r) + nodes_for r ≤ 5
receiver-few This = omega arith
receiver-few Again = omega arith
receiver-few (Stored t) = omega arith

pub receiver-ids : (r : Receiver) → 3 * length (names_for r) ≤ 3
receiver-ids This = omega arith
receiver-ids Again = omega arith
receiver-ids (Stored t) = omega arith

-- with more known, and another name held
pub receives-moved : {to : Tree → Bool} {v w : Whole} {h k : Option Bound} {xs : List Bound} {o d r : Tree} → v ≡ w → h ≡ k → Receives to v h xs o d r → Receives to w k xs o d r
receives-moved {to} {v} {w} {h} {k} {xs} {o} {d} {r} same holder m = subst (λ (a : Whole). Receives to a k xs o d r) same (subst (λ (a : Option Bound). Receives to v a xs o d r) holder m)

-- CALLEES THAT ARE BOUND

plain-not : (e : Tree) → IsPlain e → is_plain_member e ≡ false → is_member e ≡ false
plain-not (node MemberExpression l fs) h e = absurd (cc (sym (h refl) ∙ e))
plain-not (node _ l fs) h e = refl

pub bound-other : (old : Ctx) (holder : Option Bound) (e : Tree) → is_plain_member e ≡ false → BindsTo old old holder e e
bound-other old holder e other = record { names = []; ids = 0; binds = λ h. no_member (plain-not e h other); bound = record { own = 0; few = omega arith; paid = omega arith; size = omega arith }; takes = takes-none (reads-none old); sized = omega arith }

pub bound-member : (names : Names) (old mid next new : Ctx) (holder : Option Bound) (member object : Tree) (r : Receiver) → object ≡ first_child member → IsMeant r object → (written receiver made : Tree) → WritesMember r (seen names member) written receiver → ChoosesReceiver false old mid holder (seen names object) r →
    ReadsMore (nodes_for r) mid next → made ≡ bind_node written receiver → ReadsMore 3 next new → BindsTo old new holder (seen names member) made
bound-member names old mid next new holder member object r child meant written receiver made wrote chosen reads bind more =
    let same : seen names object ≡ wrote.object = ap (seen names) child ∙ sym (first_child-seen names member) ∙ ap first_child wrote.member_is in
    let receives : Receives is_super (whole_of old) holder (names_for r) wrote.object (written_for r wrote.object) (read_for r wrote.object) = subst (λ (o : Tree). Receives is_super (whole_of old) holder (names_for r) o (written_for r o) (read_for r o)) same chosen.receives in
    let size : tree_size (written_for r wrote.object) + tree_size (read_for r wrote.object) + 2 * length (names_for r) ≡ 3 * length (names_for r) + nodes_for r + tree_size wrote.object =
    subst (λ (o : Tree). tree_size (written_for r o) + tree_size (read_for r o) + 2 * length (names_for r) ≡ 3 * length (names_for r) + nodes_for r + tree_size o) same (receiver-size names r object meant) in
    let before = node MemberExpression wrote.k (one wrote.object then (one wrote.property then done)) in
    let after : made ≡ bind_node (member_at wrote.k wrote.computed (written_for r wrote.object) wrote.property) (read_for r wrote.object) = bind ∙ (λ i. bind_node (wrote.written_is i) (wrote.receiver_is i)) in
    let bound : BoundCallee (whole_of old) holder (names_for r) before made = subst (λ (t : Tree). BoundCallee (whole_of old) holder (names_for r) before t) (sym after) (to_object wrote.flags receives) in
    let grown = ap tree_size after in
    let whole = ap tree_size wrote.member_is in
    record {
      names = names_for r;
      ids = 3 * length (names_for r) + nodes_for r + 3;
      binds = λ h. subst (λ (t : Tree). BoundCallee (whole_of old) holder (names_for r) t made) (sym wrote.member_is) bound;
      bound = subst (λ (t : Tree). FewBound (names_for r) t made) (sym wrote.member_is) (bound_few bound);
      takes = takes-reads next new (takes-reads mid next chosen.takes reads) more;
      sized = omega (arith, size, grown, whole);
    }

-- A CALLEE WITH ITS RECEIVER

module _ (names : Names) (old : Ctx) (holder : Option Bound) (callee object : Tree) (t : Temporary) (r : Receiver) (child : object ≡ first_child callee) (meant : IsMeant r object) (written receiver : Tree) (wrote : WritesMember r (seen names callee) written receiver) where
  same-object : seen names object ≡ wrote.object
  same-object = ap (seen names) child ∙ sym (first_child-seen names callee) ∙ ap first_child wrote.member_is

  sized-there : tree_size (written_for r wrote.object) + tree_size (read_for r wrote.object) + 2 * length (names_for r) ≡ 3 * length (names_for r) + nodes_for r + tree_size wrote.object
  sized-there = subst (λ (o : Tree). tree_size (written_for r o) + tree_size (read_for r o) + 2 * length (names_for r) ≡ 3 * length (names_for r) + nodes_for r + tree_size o) same-object (receiver-size names r object meant)

  -- the callee's name first
  pub written-first : (mid next new : Ctx) (b : Bool) → b ≡ true → TakesTemporary (node_base callee) old mid t → ChoosesReceiver true mid next holder (seen names object) r → ReadsMore (nodes_for r) next new → WritesCallee b old new holder (seen names callee) written receiver t
  written-first mid next new b e made chosen reads =
      subst (λ (a : Bool). WritesCallee a old new holder (seen names callee) written receiver t) (sym e) (record {
        how = r;
        wrote = wrote;
        sized = sized-there;
        next = next-moved refl (sym (base-seen names callee)) made.next;
        receives = receives-moved made.takes.whole_is refl (subst (λ (o : Tree). Receives is_this_or_super (whole_of mid) holder (names_for r) o (written_for r o) (read_for r o)) same-object chosen.receives);
        takes = takes-reads next new (takes-then made.takes chosen.takes) reads;
      })

  -- or the receiver's
  pub written-last : (mid next new : Ctx) (b : Bool) (made_of : Tree) → b ≡ false → seen names made_of ≡ written → ChoosesReceiver true old mid holder (seen names object) r → ReadsMore (nodes_for r) mid next → TakesTemporary (node_base made_of) next new t → WritesCallee b old new holder (seen names callee) written receiver t
  written-last mid next new b made_of e is chosen reads made =
      let taken = takes-reads mid next chosen.takes reads in
      let count : 3 * length (names_for r) + nodes_for r + 3 ≡ 3 + 3 * length (names_for r) + nodes_for r = omega arith in
      subst (λ (a : Bool). WritesCallee a old new holder (seen names callee) written receiver t) (sym e) (record {
        how = r;
        wrote = wrote;
        sized = sized-there;
        next = next-moved taken.whole_is (sym (base-seen names made_of) ∙ ap node_base is) made.next;
        receives = subst (λ (o : Tree). Receives is_this_or_super (whole_of old) holder (names_for r) o (written_for r o) (read_for r o)) same-object chosen.receives;
        takes = subst (λ (n : ℕ). Takes (names_for r ++ bound_of t ∷ []) n (moment_of old) (moment_of new)) count (takes-then taken made.takes);
      })
