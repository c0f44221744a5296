-- The hook of expressions: what it leaves of a node is what it promises.
use Rattle.std.proofs.Common.{◌≡◌, ◌∙◌, ◌+◌, ◌*◌, ◌<◌, ◌≤◌, ℕ, refl, sym, ap, subst, arith, length, List, [], Bool, true, false}
use Rattle.std.proofs.lemmas.Bool.{or_parts}
use Rattle.std.specs.Prelude.{not, ◌&&◌, ◌||◌, bytes_eq, codes}
use Rattle.es_changes.specs.Fits.{Fits}
use Rattle.es_changes.specs.Moments.{Moment, ledger_with, whole_at}
use Rattle.es_conditions.specs.CoreConditions.{are_marked, each_passes, holds_none_where, is_chain_inside, is_free, is_known, is_lowered_with_chain, is_no_stray, is_past_chains, is_placed, is_settled, is_unmarked_chain, is_wrapped, put_inside}
use Rattle.es_conditions.specs.Laws.{ChainsKnown, Keeps, LawChains, LawChainsOff, called_by, callee_site}
use Rattle.es_resolution.specs.Declarations.{Bound}
use Rattle.es_resolution.specs.Seen.{seen}
use Rattle.es_runs.specs.Core.{flag}
use Rattle.es_runs.specs.OptionalChaining.{is_chain_kind, takes_value}
use Rattle.es_runs.specs.Rules.{strays, strays_fields}
use Rattle.es_steps.proofs.FormParts.{and-left, formed-bare}
use Rattle.es_steps.specs.CoreRules.{RowRule}
use Rattle.es_steps.specs.Open.{is_statement_body, opened}
use Rattle.es_steps.specs.OptionalChaining.{OptionalChainingRule}
use Rattle.es_steps.specs.Rules.Replacing.{replaces}
use Rattle.es_steps.specs.Slots.{in_open_slot}
use Rattle.es_steps.specs.Steps.{Site, Step, Whole}
use Rattle.es_steps.specs.Steps.Step.{acts}
use Rattle.es_steps.specs.WrapRule.{takes_one}
use Rattle.es_traverse.specs.Laws.{Entered, KeptLoad, Known, anywhere, is_construct}
use Rattle.es_traverse.specs.Loads.{load}
use Rattle.es_tree.proofs.NodeForm.{node_form}
use Rattle.es_tree.specs.Constructs.{is_chain}
use Rattle.es_tree.specs.HasForm.{has_form}
use Rattle.es_tree.specs.Names.{first_text, flag_at}
use Rattle.es_tree.specs.Parens.{without_parens}
use Rattle.es_tree.specs.Tree.{Tree, node, Label, Fields, Trees, done, ◌then◌, one, many, kind_of, tree_size}
use Rattle.es_tree.specs.Walks.{any_node}
use Rattle.es_tree.specs.declared.ast_type.AstType.{AstType}
use Rattle.es_tree.specs.declared.ast_type.AstType.TheVariants.{CallExpression, ChainExpression, ConditionalExpression, FunctionBody, UnaryExpression}
use Rattle.es_tree.specs.declared.options.EnvOptions.{EnvOptions}
use Rattle.es_tree.specs.declared.table.Sort.{Sort}
use Rattle.es_tree.specs.declared.table.Sort.TheVariants.{Expression as s-Expression}
use Rattle.es_visit.specs.declared.hook.Hook.TheVariants.{Expression}
use Rattle.lower_temporaries.proofs.Entered.{entered-by-row, entered-by-step, entered-same, kept-by-row, on-rule, sort-expression}
use Rattle.lower_temporaries.proofs.RowProfiles.{none-where}
use Rattle.lower_temporaries.proofs.Takings.{reads-none, takes-none}
use Rattle.lower_temporaries.specs.Replacings.{IsPut, StepsTo, ledger_taking}
use Rattle.lower_temporaries.specs.Takings.{Takes, moment_of}
use Rattle.lower_chains.proofs.Inside.{called-step, put-load, put-size}
use Rattle.lower_chains.proofs.Marks.{AreMarked, chain-marked, first-flag, inside-marked}
use Rattle.lower_chains.proofs.Shapes.{chain-below, left, right, un-not}
use Rattle.lower_chains.proofs.Sound.{bare-tidy, call-pair, unary-single}
use Rattle.lower_chains.specs.Chains.{IsSoundNode, LowersAt, anywhere_at, takes_by}
use Rattle.lower_chains.specs.Hooks.{LowersCall, LowersNode}
use Rattle.lower_chains.specs.Hooks.LowersNode.{as_chain, as_delete, as_call, as_it_was}
use Rattle.lower_chains.specs.Profiles.{Suits, chain_constructs, chain_profile, chain_rule}
use Rattle.lower_chains.specs.declared.optional_chaining.OptionalChaining.{OptionalChaining}
use Rattle.lower_chains.specs.Spines.{calls_chain, deletes_chain, has_chain, is_call_pair, is_marked_chain, is_single}
use Rattle.lower_chains.specs.Ways.{Ctx, Names}

-- WHAT IS PUT

conditional-put : (o : EnvOptions) (t u : Tree) → is_statement_body t ≡ false → kind_of u ≡ ConditionalExpression → IsPut (chain_profile o) t u
conditional-put o t (node ConditionalExpression l fs) body k = record { cleared = none-where o.es2020.optional_chaining; sort = sort-expression t (node ConditionalExpression l fs) refl; body = sym body; made = refl }
conditional-put o t (node _ l fs) body k = absurd (cc k)

chain-body : (t : Tree) → is_marked_chain t ≡ true → is_statement_body t ≡ false
chain-body (node FunctionBody l fs) h = absurd (cc h)
chain-body (node _ l fs) h = refl

delete-body : (t : Tree) → deletes_chain t ≡ true → is_statement_body t ≡ false
delete-body (node FunctionBody l fs) h = absurd (cc h)
delete-body (node _ l fs) h = refl

-- A CHAIN AT ITS PLACE

chain-value : (o : EnvOptions) → ChainsKnown o → (n : Site) (t : Tree) → is_marked_chain t ≡ true → is_wrapped o n t ≡ true → takes_value n.need.level ≡ true
chain-value o law n (node ChainExpression m (one e then done)) h k = law.value n m e k
chain-value o law n (node ChainExpression m _) h k = absurd (cc h)
chain-value o law n (node _ m fs) h k = absurd (cc h)

marked-kind : (t : Tree) → is_marked_chain t ≡ true → is_chain_kind (kind_of t) ≡ true
marked-kind (node ChainExpression l fs) h = refl
marked-kind (node _ l fs) h = absurd (cc h)

callee-tidy : (l : Label) (f : Tree) (ts : Trees) → strays false (called_by l f ts) ≡ false → strays false f ≡ false
callee-tidy l f ts h = (or_parts (strays false f) (strays_fields false (many ts then done)) (or_parts (flag l.flags && true) (strays_fields false (one f then (many ts then done))) h).1).0

-- NODES THAT ARE LEFT

and-none : (a b : Bool) → (b ≡ true → a ≡ false) → (a && b) ≡ false
and-none true true h = h refl
and-none true false h = refl
and-none false b h = refl

first-none : (a b : Bool) → ((a && true) && b) ≡ false → b ≡ true → a ≡ false
first-none true true h e = h
first-none true false h e = absurd (cc e)
first-none false b h e = refl

-- where each chain has a mark, what the code leaves is lowered with no chain
unlowered : (s : Sort) (k : AstType) (l : Label) (fs : Fields) → has_form s (node k l fs) ≡ true → AreMarked (node k l fs) → is_marked_chain (node k l fs) ≡ false → deletes_chain (node k l fs) ≡ false → calls_chain (node k l fs) ≡ false → is_lowered_with_chain k l fs ≡ false
unlowered s ChainExpression l fs h m chain delete call = absurd (cc (sym (chain-marked s (node ChainExpression l fs) h m refl) ∙ chain))
unlowered s CallExpression l fs h m chain delete call = at fs h m call (call-pair s l fs h)
  where
    at : (fs : Fields) → has_form s (node CallExpression l fs) ≡ true → AreMarked (node CallExpression l fs) → calls_chain (node CallExpression l fs) ≡ false → is_call_pair fs ≡ true → is_lowered_with_chain CallExpression l fs ≡ false
    at (one f then (many ts then done)) h m call e =
        let formed = and-left (has_form s-Expression f) _ (node_form s CallExpression l (one f then (many ts then done)) h).children in
        let below = (or_parts (any_node is_unmarked_chain f) _ m).0 in
        and-none (not (flag_at 0 l.flags)) (is_chain_inside f) (λ c. ap not (first-flag l.flags) ∙ first-none (not (flag l.flags)) (has_chain f) call (inside-marked f formed below c))
    at _ h m call e = absurd (cc e)
unlowered s UnaryExpression l fs h m chain delete call = at fs h m delete (unary-single s l fs h)
  where
    at : (fs : Fields) → has_form s (node UnaryExpression l fs) ≡ true → AreMarked (node UnaryExpression l fs) → deletes_chain (node UnaryExpression l fs) ≡ false → is_single fs ≡ true → is_lowered_with_chain UnaryExpression l fs ≡ false
    at (one t then done) h m delete e =
        let formed = and-left (has_form s-Expression t) true (node_form s UnaryExpression l (one t then done) h).children in
        let below = (or_parts (any_node is_unmarked_chain t) false m).0 in
        and-none (bytes_eq (first_text l.texts) (codes "delete")) (is_chain_inside t) (λ c. first-none (bytes_eq (first_text l.texts) (codes "delete")) (has_chain t) delete (inside-marked t formed below c))
    at _ h m delete e = absurd (cc e)
unlowered s _ l fs h m chain delete call = refl

settled-there : (o : EnvOptions) (s : Sort) (t : Tree) → has_form s t ≡ true → AreMarked t → is_marked_chain t ≡ false → deletes_chain t ≡ false → calls_chain t ≡ false → is_settled o t ≡ true
settled-there o s (node k l fs) h m chain delete call = rw (unlowered s k l fs h m chain delete call) (ap not (none-where o.es2020.optional_chaining))

no-chain : (o : EnvOptions) (s : Sort) (t : Tree) → has_form s t ≡ true → AreMarked t → is_marked_chain t ≡ false → is_construct (chain_constructs o Expression) t ≡ false
no-chain o s (node ChainExpression l fs) h m chain = absurd (cc (sym (chain-marked s (node ChainExpression l fs) h m refl) ∙ chain))
no-chain o s (node _ l fs) h m chain = none-where o.es2020.optional_chaining

-- WHERE THE OPTION IS ON

-- the row of chains keeps the conditions
abbrev pub RowKeeps : Type 0
RowKeeps = (o : EnvOptions) → o.es2020.optional_chaining ≡ true → Keeps (is_wrapped o) (is_free o) (OptionalChainingRule o.assumptions.no_document_all)

module _ (laws : LawChains) (rows : RowKeeps) (o : EnvOptions) (on : o.es2020.optional_chaining ≡ true) (a b : Moment) (t u : Tree) (there : 0 < length a.lists) where
  law : ChainsKnown o
  law = laws o on

  abbrev R : Site → Whole → List Bound → Tree → Tree → Type 0
  R = OptionalChainingRule o.assumptions.no_document_all

  sound-here : (n : Site) → Fits a n t → is_wrapped o n t ≡ true → IsSoundNode t
  sound-here n f k = record { sort = f.sort; formed = f.formed; tidy = law.tidy n t k }

  -- by a row at the node
  entered-at : (place : Site → Type 0) → ((n : Site) → is_wrapped o n t ≡ true → place n) → is_statement_body t ≡ false → LowersAt place o.assumptions.no_document_all a t b u → Entered (chain_profile o) (Known (is_wrapped o)) (Known (is_free o)) Expression anywhere a t b u
  entered-at place stands body r =
      entered-by-row (chain_profile o) a t b u R (on-rule (RowRule R) o.es2020.optional_chaining on) (rows o on) there
      (record { made = r.made; ids = r.ids; takes = r.takes; row = λ n f k. r.row n (stands n k) (sound-here n f k); nodes = r.nodes; lighter = r.lighter })
      (conditional-put o t u body r.kind)

  -- what is known of the node
  marked-here : (n : Site) → is_wrapped o n t ≡ true → AreMarked t
  marked-here n k =
      let known = right (holds_none_where (in_open_slot n.above) o t) (is_known o n t) k in
      let marks = right (each_passes (is_placed o) n t) (are_marked o t) (left (each_passes (is_placed o) n t && are_marked o t) (is_no_stray o n t) (left (each_passes (is_placed o) n t && are_marked o t && is_no_stray o n t) (is_past_chains o n) known)) in
      let none = un-not (o.es2020.optional_chaining && (strays false t || any_node is_unmarked_chain t)) marks in
      (or_parts (strays false t) (any_node is_unmarked_chain t) (sym (ap (λ b. b && (strays false t || any_node is_unmarked_chain t)) on) ∙ none)).1

  -- a call of a chain
  entered-call : LowersCall o.assumptions.no_document_all a t b u → Entered (chain_profile o) (Known (is_wrapped o)) (Known (is_free o)) Expression anywhere a t b u
  entered-call c =
      let l = c.l in
      let f = c.callee in
      let ts = c.arguments in
      let r = c.inside.lowers in
      let d = c.inside.inner in
      let below : is_marked_chain (without_parens f) ≡ true = chain-below f c.chain in
      let inside = marked-kind (without_parens f) below in
      let after : u ≡ called_by l (put_inside f d) ts = c.after ∙ ap (λ (g : Tree). called_by l g ts) c.inside.put in
      let formed : (n : Site) (w : Fits a n t) → has_form w.sort (called_by l f ts) ≡ true = λ n w. subst (λ (v : Tree). has_form w.sort v ≡ true) c.before w.formed in
      let known : (n : Site) → is_wrapped o n t ≡ true → is_wrapped o n (called_by l f ts) ≡ true = λ n k. subst (λ (v : Tree). is_wrapped o n v ≡ true) c.before k in
      let sound : (n : Site) (w : Fits a n t) → is_wrapped o n t ≡ true → IsSoundNode (without_parens f) = λ n w k. record {
        sort = s-Expression;
        formed = formed-bare s-Expression f refl (and-left (has_form s-Expression f) _ (node_form w.sort CallExpression l (one f then (many ts then done)) (formed n w)).children);
        tidy = bare-tidy f (callee-tidy l f ts (law.tidy n (called_by l f ts) (known n k)));
      } in
      let row : (n : Site) (w : Fits a n t) → is_wrapped o n t ≡ true → R (callee_site n l f ts) (whole_at a) r.made (without_parens f) d = λ n w k. r.row (callee_site n l f ts) (law.callee n l f ts (known n k) inside) (sound n w k) in
      let size = ap tree_size c.before in
      let heavy = ap load c.before in
      let size_after = ap tree_size after in
      let heavy_after = ap load after in
      let sizes = put-size f d in
      let loads = put-load f d in
      let steps : StepsTo (Known (is_wrapped o)) (chain_rule o) a t b u = record {
        made = r.made;
        ids = r.ids;
        takes = r.takes;
        step = λ n w k p.
            subst (λ (v : Tree). Step (chain_rule o) n (ledger_with p a) (opened v) (ledger_taking r.made p a) (opened u)) (sym c.before)
            (subst (λ (v : Tree). Step (chain_rule o) n (ledger_with p a) (opened (called_by l f ts)) (ledger_taking r.made p a) (opened v)) (sym after)
            (called-step (chain_rule o) (ledger_with p a) (ledger_taking r.made p a) n l f d ts
            (acts (without_parens f) d (on-rule (RowRule R) o.es2020.optional_chaining on (callee_site n l f ts) _ _ _ _ (replaces r.made (record { rule = row n w k; outside = and-none (takes_one r.made) (in_open_slot (callee_site n l f ts).above) (λ e. absurd (cc (sym e ∙ law.called_outside n l f ts (known n k) inside))) }))))));
        nodes = omega (arith, r.nodes, size, size_after, sizes);
        lighter = omega (arith, r.lighter, heavy, heavy_after, loads);
      } in
      entered-by-step (chain_profile o) a t b u there steps
      (λ n w k. subst (λ (v : Tree). is_free o n v ≡ true) (sym after) (law.called n (whole_at a) r.made w.sort l f d ts (formed n w) (known n k) inside (row n w k)))
      (subst (λ (v : Tree). IsPut (chain_profile o) v u) (sym c.before) (subst (λ (v : Tree). IsPut (chain_profile o) (called_by l f ts) v) (sym after) (record { cleared = none-where o.es2020.optional_chaining; sort = sort-expression (called_by l f ts) (called_by l (put_inside f d) ts) refl; body = refl; made = refl })))

  pub entered-node : LowersNode o.assumptions.no_document_all a t b u → Entered (chain_profile o) (Known (is_wrapped o)) (Known (is_free o)) Expression anywhere a t b u
  entered-node (as_chain h r) = entered-at (takes_by false) (λ n k. chain-value o law n t h k) (chain-body t h) r
  entered-node (as_delete h r) = entered-at anywhere_at (λ n k. tt) (delete-body t h) r
  entered-node (as_call c) = entered-call c
  entered-node (as_it_was chain delete call same is) =
      subst (λ (c : Moment). Entered (chain_profile o) (Known (is_wrapped o)) (Known (is_free o)) Expression anywhere a t c u) same
      (subst (λ (v : Tree). Entered (chain_profile o) (Known (is_wrapped o)) (Known (is_free o)) Expression anywhere a t a v) is
      (entered-same (chain_profile o) a t (λ n f k. law.settled n t k (settled-there o f.sort t f.formed (marked-here n k) chain delete call)) (λ n f k. no-chain o f.sort t f.formed (marked-here n k) chain)))

-- WHERE IT IS OFF

pub entered-off : (off : LawChainsOff) (o : EnvOptions) → o.es2020.optional_chaining ≡ false → (a : Moment) (t : Tree) → Entered (chain_profile o) (Known (is_wrapped o)) (Known (is_free o)) Expression anywhere a t a t
entered-off off o e a t = entered-same (chain_profile o) a t (λ n f k. off o n t e k) (λ n f k. nothing t)
  where
    nothing : (t : Tree) → is_construct (chain_constructs o Expression) t ≡ false
    nothing (node k l fs) = ap (λ b. b && is_chain k l fs) e

-- WHAT IT WEIGHS

-- the temporaries and ids of what was lowered
pub record IsCounted (a : Moment) (t : Tree) (b : Moment) (u : Tree) : Type 0 where
  pub made : List Bound
  pub ids : ℕ
  pub takes : Takes made ids a b
  pub nodes : tree_size u + 2 * length made ≤ tree_size t + ids
  pub lighter : ids + 4 * length made + load u ≤ load t

counted-call : (no_all : Bool) (a b : Moment) (t u : Tree) → LowersCall no_all a t b u → IsCounted a t b u
counted-call no_all a b t u c =
    let r = c.inside.lowers in
    let after = c.after ∙ ap (λ (g : Tree). called_by c.l g c.arguments) c.inside.put in
    let size = ap tree_size c.before in
    let heavy = ap load c.before in
    let size_after = ap tree_size after in
    let heavy_after = ap load after in
    let sizes = put-size c.callee c.inside.inner in
    let loads = put-load c.callee c.inside.inner in
    record { made = r.made; ids = r.ids; takes = r.takes; nodes = omega (arith, r.nodes, size, size_after, sizes); lighter = omega (arith, r.lighter, heavy, heavy_after, loads) }

counted-same : (old : Ctx) (b : Moment) (t u : Tree) → moment_of old ≡ b → t ≡ u → IsCounted (moment_of old) t b u
counted-same old b t u same is =
    subst (λ (c : Moment). IsCounted (moment_of old) t c u) same (subst (λ (v : Tree). IsCounted (moment_of old) t (moment_of old) v) is
    (record { made = []; ids = 0; takes = takes-none (reads-none old); nodes = omega arith; lighter = omega arith }))

counted : (no_all : Bool) (old : Ctx) (b : Moment) (t u : Tree) → LowersNode no_all (moment_of old) t b u → IsCounted (moment_of old) t b u
counted no_all old b t u (as_chain h r) = record { made = r.made; ids = r.ids; takes = r.takes; nodes = r.nodes; lighter = r.lighter }
counted no_all old b t u (as_delete h r) = record { made = r.made; ids = r.ids; takes = r.takes; nodes = r.nodes; lighter = r.lighter }
counted no_all old b t u (as_call c) = counted-call no_all (moment_of old) b t u c
counted no_all old b t u (as_it_was chain delete call same is) = counted-same old b t u same is

pub kept-node : (no_all : Bool) (old new : Ctx) (t u : Tree) → 0 < length (moment_of old).lists → ((names : Names) → LowersNode no_all (moment_of old) (seen names t) (moment_of new) (seen names u)) → KeptLoad 0 (moment_of old) t (moment_of new) u
kept-node no_all old new t u there h =
    kept-by-row (λ n v. ⊥) (OptionalChainingRule no_all) (moment_of old) t (moment_of new) u there
    (λ names. let c = counted no_all old (moment_of new) (seen names t) (seen names u) (h names) in record { made = c.made; ids = c.ids; takes = c.takes; row = λ n f k. absurd k; nodes = c.nodes; lighter = c.lighter })

-- THE HOOK

pub entered-on : (laws : LawChains) (rows : RowKeeps) (x : OptionalChaining) (old new : Ctx) (s t u : Tree) → Suits x old.options → x.is_on ≡ true → s ≡ t → 0 < length (moment_of old).lists → ((names : Names) → LowersNode x.no_document_all (moment_of old) (seen names s) (moment_of new) (seen names u)) →
    (names : Names) → Entered (chain_profile old.options) (Known (is_wrapped old.options)) (Known (is_free old.options)) Expression anywhere (moment_of old) (seen names t) (moment_of new) (seen names u)
entered-on laws rows x old new s t u k on is there h names =
    entered-node laws rows old.options (sym k.on ∙ on) (moment_of old) (moment_of new) (seen names t) (seen names u) there
    (subst (λ (b : Bool). LowersNode b (moment_of old) (seen names t) (moment_of new) (seen names u)) k.assumed
    (subst (λ (v : Tree). LowersNode x.no_document_all (moment_of old) (seen names v) (moment_of new) (seen names u)) is (h names)))

pub kept-on : (x : OptionalChaining) (old new : Ctx) (s t u : Tree) → s ≡ t → 0 < length (moment_of old).lists → ((names : Names) → LowersNode x.no_document_all (moment_of old) (seen names s) (moment_of new) (seen names u)) → KeptLoad 0 (moment_of old) t (moment_of new) u
kept-on x old new s t u is there h = subst (λ (v : Tree). KeptLoad 0 (moment_of old) v (moment_of new) u) is (kept-node x.no_document_all old new s u there h)
